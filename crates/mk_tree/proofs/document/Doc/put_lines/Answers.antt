use Rattle.std.proofs.Common.{arith, drop, refl, sym, ap, ◌∙◌, ◌≡◌, subst}
use Rattle.std.proofs.lemmas.List.{length-drop}
use Rattle.mk_tree.specs.Origins.{lines_between}
use Rattle.mk_tree.specs.LocatedLines.{located_text}
use Rattle.mk_tree.specs.Printing.{Gathers}
use Rattle.mk_tree.proofs.AdmissionLemmas.{drop-none, drop-step}
use Rattle.mk_tree.proofs.Prefixes.{gathers-nothing, gathers-then, gathers-front, gathers-fails, line-joined, lines-joined}
use Rattle.mk_tree.proofs.document.Doc.put_lines.Goals as goal

pub lines-init : goal.lines-init
lines-init g c = (sym c.lines_from-lines.ensures, gathers-nothing c.requires.works refl refl)

pub unreachable-requires : goal.unreachable-requires
unreachable-requires g c =
    let (here, so_far) = c.lines.invariant in
    drop-none (drop c.args.from c.args.self.now) c.lines.at (omega (arith, c.lines-test.true, c.requires.in_range, length-drop c.args.from c.args.self.now)) (here ∙ c.in_default.ensures.steps.0)

pub lines-preserved : goal.lines-preserved
lines-preserved g c =
    let (here, so_far) = c.lines.invariant in
    let ls = drop c.args.from c.args.self.now in (
      drop-step ls _ _ c.lines.at (here ∙ c.in-Some.ensures.steps),
      subst (Gathers _ _ _ _ _ _ _ _) (line-joined _ ls _ _ _ c.lines.at here c.in-Some.ensures.steps c.bytes.ensures.bytes) (gathers-then so_far c.in_ok-put.ensures),
    )

pub returns-in_err-put : goal.returns-in_err-put
returns-in_err-put g c =
    let (here, so_far) = c.lines.invariant in
    let ls = drop c.args.from c.args.self.now in
    subst (Gathers _ _ _ _ _ _ _ _) (lines-joined _ ls _ _ _ c.lines.at c.args.count here c.in-Some.ensures.steps c.bytes.ensures.bytes c.lines-test.true) (gathers-fails c.from_residual.ensures.1 (gathers-front _ (gathers-then so_far c.in_err-put.ensures)))

pub returns : goal.returns
returns g c =
    let (here, so_far) = c.lines.invariant in
    let all : c.lines.at ≡ c.args.count = omega (arith, c.lines-test.false, c.lines.auto.at-end) in
    subst (Gathers _ _ _ _ _ _ _ _) (ap (λ n. located_text (lines_between c.args.from n c.args.self.now)) all) so_far
