-- Runs of lines of a text replaced, put in and taken out: the lines above stay, and so do those below unless they lean on the
-- flag.
use Rattle.std.proofs.Common.{◌≡◌, refl, sym, ap, ◌∙◌, subst, arith, ℕ, List, [], ◌∷◌, ◌++◌, false, length, ◌+◌}
use Rattle.mk_lines.specs.Lists.{concat}
use Rattle.mk_lines.specs.LogicalLines.{logical_lines}
use Rattle.mk_lines.proofs.on_lists.CutLemmas.{state_after-append}
use Rattle.mk_lines.proofs.on_lines.LineCut.{AtStart, line_step, line_state_after}
use Rattle.mk_lines.proofs.on_lines.LineLemmas.{OneLine, OneLine-logical, Ends, EndsBefore, replace-run}
use Rattle.mk_lines.specs.Pieces.{replaced}
use Rattle.mk_lines.proofs.on_lists.PieceLemmas.{replaced-one}
use Rattle.mk_lines.specs.Cells.{Cell}
use Rattle.mk_class.specs.Classes.{Class}
use Rattle.mk_class.specs.Contexts.{Context, start, context_after, flag_after}
use Rattle.mk_class.specs.ClassTable.{class_of}
use Rattle.mk_class.specs.ClassedLines.{ClassedLine, classed, classed_lines, context_after_lines}
use Rattle.mk_class.proofs.on_contexts.FlagLemmas.{classed-append}
use Rattle.mk_tree.specs.LineTexts.{text_of, context_of, bytes_of}
use Rattle.mk_tree.proofs.on_documents.LinesInText.{bytes_of-append, text_of-bytes, context_of-append, RunInText, run-in_text}
use Rattle.mk_tree.specs.Leaning.{AgreeButForFlag, leans}
use Rattle.mk_tree.proofs.on_changes.LeaningLemmas.{agrees-back, agrees-same, leans-back, leans-same, classed-unless_leans}

-- ---- the text

-- the bytes of a run of lines replaced by a text
pub text-run_replaced : (t : List ℕ) (above run below : List ClassedLine) (v : List ℕ) → classed_lines t ≡ above ++ (run ++ below)
    → replaced 0 t (record { start = length (text_of above); end = length (text_of above) + length (text_of run); new = v } ∷ []) ≡ text_of above ++ (v ++ text_of below)
text-run_replaced t above run below v h =
    replaced-one t (text_of above) (text_of run) (text_of below) v (length (text_of above)) (length (text_of above) + length (text_of run)) (run-in_text t above run below h).text refl refl

-- a text put between lines
pub text-inserted : (t : List ℕ) (above below : List ClassedLine) (v : List ℕ) → classed_lines t ≡ above ++ below
    → replaced 0 t (record { start = length (text_of above); end = length (text_of above); new = v } ∷ []) ≡ text_of above ++ (v ++ text_of below)
text-inserted t above below v h =
    let e : length (text_of above) ≡ length (text_of above) + 0 = omega arith in
    replaced-one t (text_of above) [] (text_of below) v (length (text_of above)) (length (text_of above)) (run-in_text t above [] below h).text refl e

-- ---- a run of lines replaced by the lines of a text

no_lines : (ls : List ClassedLine) → bytes_of ls ≡ [] → ls ≡ []
no_lines [] h = refl
no_lines (l ∷ ls) h = cc

-- A run of lines replaced by a text, whose lines stand there with the classes that they have there. If lines are below, the text
-- has to end a line. If nothing was below the lines above, and the text has lines, the lines above have to end a line.
run-replaced : (t : List ℕ) (above run below : List ClassedLine) (v : List ℕ) (new : List ClassedLine) → classed_lines t ≡ above ++ (run ++ below)
    → classed (context_of above) (logical_lines v) ≡ new
    → (run ++ below ≡ [] → EndsBefore (text_of above) (logical_lines v)) → EndsBefore v (bytes_of below)
    → classed_lines (text_of above ++ (v ++ text_of below)) ≡ above ++ (new ++ classed (context_after_lines (context_of above) new) (bytes_of below))
run-replaced t above run below v new h k begins ends =
    let R : RunInText t above run below = run-in_text t above run below h in
    let X = bytes_of above in
    let Y = bytes_of below in
    let N = logical_lines v in
    let c = context_of above in
    let nothing : bytes_of run ++ Y ≡ [] → EndsBefore (concat X) N = λ z. subst (λ x. EndsBefore x N) (text_of-bytes above) (begins (no_lines (run ++ below) (bytes_of-append run below ∙ z))) in
    let lines : logical_lines (concat X ++ (v ++ concat Y)) ≡ X ++ (N ++ Y) = replace-run t X (bytes_of run) Y v R.lines nothing ends in
    let text : text_of above ++ (v ++ text_of below) ≡ concat X ++ (v ++ concat Y) = ap (λ z. z ++ (v ++ text_of below)) (text_of-bytes above) ∙ ap (λ z. concat X ++ (v ++ z)) (text_of-bytes below) in
    let upper : classed start (X ++ (N ++ Y)) ≡ above ++ classed c (N ++ Y) =
    classed-append start X (N ++ Y) ∙ ap (λ (z : List ClassedLine). z ++ classed (context_after_lines start z) (N ++ Y)) R.above_classed in
    let lower : classed c (N ++ Y) ≡ new ++ classed (context_after_lines c new) Y =
    classed-append c N Y ∙ ap (λ (z : List ClassedLine). z ++ classed (context_after_lines c z) Y) k in
    ap classed_lines text ∙ (ap (classed start) lines ∙ (upper ∙ ap (λ z. above ++ z) lower))

-- A run of lines replaced by a text, if the contexts directly above the lines below agree in all except perhaps the flag, and the
-- lines below do not lean on it.
pub run-replaced_keeping : (t : List ℕ) (above run below : List ClassedLine) (v : List ℕ) (new : List ClassedLine) → classed_lines t ≡ above ++ (run ++ below)
    → classed (context_of above) (logical_lines v) ≡ new
    → (run ++ below ≡ [] → EndsBefore (text_of above) (logical_lines v)) → EndsBefore v (bytes_of below)
    → AgreeButForFlag (context_after_lines (context_of above) run) (context_after_lines (context_of above) new)
    → leans (context_after_lines (context_of above) run).prefix (context_after_lines (context_of above) run).flag (context_after_lines (context_of above) new).flag below ≡ false
    → classed_lines (text_of above ++ (v ++ text_of below)) ≡ above ++ (new ++ below)
run-replaced_keeping t above run below v new h k begins ends agree free =
    let R : RunInText t above run below = run-in_text t above run below h in
    let c = context_after_lines (context_of above) run in
    let d = context_after_lines (context_of above) new in
    let free' : leans c.prefix c.flag d.flag (classed c (bytes_of below)) ≡ false = subst (λ (z : List ClassedLine). leans c.prefix c.flag d.flag z ≡ false) (sym R.below_classed) free in
    run-replaced t above run below v new h k begins ends
    ∙ ap (λ z. above ++ (new ++ z)) (classed-unless_leans c d (bytes_of below) agree free' ∙ R.below_classed)

leans-one : (p : ℕ) (c d : Context) (ls : List ClassedLine) → c ≡ d → leans p c.flag d.flag ls ≡ false
leans-one p c d ls h = subst (λ (z : Context). leans p c.flag z.flag ls ≡ false) h (leans-same p c.flag ls)

-- A run of lines replaced by a text, if the context directly above the lines below is as it was.
pub run-replaced_same : (t : List ℕ) (above run below : List ClassedLine) (v : List ℕ) (new : List ClassedLine) → classed_lines t ≡ above ++ (run ++ below)
    → classed (context_of above) (logical_lines v) ≡ new
    → (run ++ below ≡ [] → EndsBefore (text_of above) (logical_lines v)) → EndsBefore v (bytes_of below)
    → context_after_lines (context_of above) new ≡ context_after_lines (context_of above) run
    → classed_lines (text_of above ++ (v ++ text_of below)) ≡ above ++ (new ++ below)
run-replaced_same t above run below v new h k begins ends same =
    let c = context_after_lines (context_of above) run in
    let d = context_after_lines (context_of above) new in
    run-replaced_keeping t above run below v new h k begins ends (agrees-same c d (sym same)) (leans-one c.prefix c d below (sym same))

-- ---- lines put in, taken out, and replaced by one

one-class : (c : Context) (m : List ℕ) (k : Class Cell) → OneLine m → class_of c m ≡ k → classed c (logical_lines m) ≡ record { bytes = m; class = k } ∷ []
one-class c m k o h =
    ap (classed c) (OneLine-logical m o) ∙ ap (λ (z : Class Cell). record { bytes = m; class = z } ∷ []) h

-- A line put between lines, or in front of them, or at the end of the text if the lines above end a line.
pub line-inserted : (t : List ℕ) (above below : List ClassedLine) (m : List ℕ) (k : Class Cell) → classed_lines t ≡ above ++ below
    → OneLine m → (below ≡ [] → Ends (text_of above)) → EndsBefore m (bytes_of below) → class_of (context_of above) m ≡ k
    → AgreeButForFlag (context_of above) (context_after (context_of above) k)
    → leans (context_of above).prefix (flag_after (context_of above).flag k) (context_of above).flag below ≡ false
    → classed_lines (text_of above ++ (m ++ text_of below)) ≡ above ++ record { bytes = m; class = k } ∷ below
line-inserted t above below m k h o begins ends q agree free =
    let c = context_of above in
    run-replaced_keeping t above [] below m (record { bytes = m; class = k } ∷ []) h (one-class c m k o q)
    (λ z. subst (EndsBefore (text_of above)) (sym (OneLine-logical m o)) (begins z)) ends agree (leans-back c.prefix (flag_after c.flag k) c.flag below free)

-- A run of lines taken out.
pub run-removed : (t : List ℕ) (above run below : List ClassedLine) → classed_lines t ≡ above ++ (run ++ below)
    → AgreeButForFlag (context_of above) (context_of (above ++ run))
    → leans (context_of above).prefix (context_of above).flag (context_of (above ++ run)).flag below ≡ false
    → classed_lines (text_of above ++ text_of below) ≡ above ++ below
unfolding Ends
run-removed t above run below h agree free =
    let c = context_of above in
    let d = context_after_lines c run in
    let e : context_of (above ++ run) ≡ d = context_of-append above run in
    let agree' : AgreeButForFlag c d = subst (AgreeButForFlag c) e agree in
    let free' : leans c.prefix c.flag d.flag below ≡ false = subst (λ (z : Context). leans c.prefix c.flag z.flag below ≡ false) e free in
    let turned : leans d.prefix d.flag c.flag below ≡ false = subst (λ z. leans z d.flag c.flag below ≡ false) agree'.prefix (leans-back c.prefix c.flag d.flag below free') in
    run-replaced_keeping t above run below [] [] h refl (λ z. tt) (starts (bytes_of below)) (agrees-back c d agree') turned
  where
    starts : (ls : List (List ℕ)) → EndsBefore [] ls
    starts [] = tt
    starts (l ∷ ls) = refl

-- A line replaced by another line, after which the context is the same.
pub line-replaced : (t : List ℕ) (above : List ClassedLine) (l : ClassedLine) (below : List ClassedLine) (m : List ℕ) (k : Class Cell) → classed_lines t ≡ above ++ l ∷ below
    → OneLine m → EndsBefore m (bytes_of below) → class_of (context_of above) m ≡ k
    → context_after (context_of above) k ≡ context_after (context_of above) l.class
    → classed_lines (text_of above ++ (m ++ text_of below)) ≡ above ++ record { bytes = m; class = k } ∷ below
line-replaced t above l below m k h o ends q same =
    run-replaced_same t above (l ∷ []) below m (record { bytes = m; class = k } ∷ []) h (one-class (context_of above) m k o q) (λ z. cc) ends same

-- ---- texts that end

-- a text that ends a line, and then another that does, end a line together
pub Ends-append : (a b : List ℕ) → Ends a → Ends b → Ends (a ++ b)
unfolding Ends
Ends-append a b h k = state_after-append line_step AtStart a b ∙ (ap (λ s. line_state_after s b) h ∙ k)

-- the empty text ends a line
pub Ends-nothing : Ends []
unfolding Ends
Ends-nothing = refl
