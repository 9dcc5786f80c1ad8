use Rattle.std.proofs.Common.{◌≡◌, refl, subst, ◌++◌, false}
use Rattle.mk_lines.specs.LogicalLines.{logical_lines}
use Rattle.mk_lines.proofs.on_lines.LineEndLemmas.{EndsBefore-followed}
use Rattle.mk_class.specs.Contexts.{Context}
use Rattle.mk_class.specs.ClassedLines.{classed, context_after_lines}
use Rattle.mk_tree.specs.LineTexts.{text_of, context_of, bytes_of}
use Rattle.mk_tree.specs.Leaning.{AgreeButForFlag, leans}
use Rattle.mk_tree.proofs.on_documents.LinesInText.{context_of-append, reading-three}
use Rattle.mk_tree.proofs.on_changes.RunsReplaced.{run-replaced_keeping}
use Rattle.mk_tree.proofs.laws.runs_are_replaced.Goals as goal

pub returns : goal.returns
returns c text new above run below h begins ends agree free =
    let put = classed (context_of above) (logical_lines new) in
    let e : context_of (above ++ run) ≡ context_after_lines (context_of above) run = context_of-append above run in
    let f : context_of (above ++ put) ≡ context_after_lines (context_of above) put = context_of-append above put in
    let agree' : AgreeButForFlag (context_after_lines (context_of above) run) (context_after_lines (context_of above) put) =
    subst (λ (z : Context). AgreeButForFlag z (context_after_lines (context_of above) put)) e (subst (λ (z : Context). AgreeButForFlag (context_of (above ++ run)) z) f agree) in
    let free' : leans (context_after_lines (context_of above) run).prefix (context_after_lines (context_of above) run).flag (context_after_lines (context_of above) put).flag below ≡ false =
    subst (λ (z : Context). leans z.prefix z.flag (context_after_lines (context_of above) put).flag below ≡ false) e
    (subst (λ (z : Context). leans (context_of (above ++ run)).prefix (context_of (above ++ run)).flag z.flag below ≡ false) f free) in
    let lines = run-replaced_keeping text above run below new put h refl (λ z. EndsBefore-followed (text_of above) (logical_lines new) (begins z)) (EndsBefore-followed new (bytes_of below) ends) agree' free' in
    (lines, reading-three (text_of above ++ (new ++ text_of below)) above put below lines)
