-- Runs of lines: put together, with another line in one's place, and passed by a walk.
use Rattle.std.proofs.Common.{◌≡◌, ℕ, zero, suc, ◌+◌, ◌-◌, ◌<◌, sym, ap, ◌∙◌, subst, arith, suc-add, List, [], ◌∷◌, ◌++◌, length, length-append, take, drop, Option, Some, None, append_assoc, true, refl}
use Rattle.std.specs.Borrow.{Bor}
use Rattle.std.specs.Prelude.{IfSome}
use Rattle.mk_tree.specs.LocatedLines.{LocatedLine}
use Rattle.mk_tree.specs.Runs.{AreRun, Passes, is_in_run}
use Rattle.mk_tree.specs.Trees.{line_view}
use Rattle.mk_tree.specs.TreeWalks.{lines_ahead}
use Rattle.mk_tree.specs.declared.run.Run.{Run}
use Rattle.mk_tree.specs.declared.tree.Line.{Line}
use Rattle.mk_tree.proofs.WalkLemmas.{lines_ahead-push}

pub are_run-append : (r : Run) (ls ms : List LocatedLine) → AreRun r ls → AreRun r ms → AreRun r (ls ++ ms)
are_run-append r [] ms h k = k
are_run-append r (l ∷ ls) ms h k = (h.0, are_run-append r ls ms h.1 k)

-- with another line of the run in the place of one
are_run-replaced : (r : Run) (x : LocatedLine) (ls : List LocatedLine) (at : ℕ) → AreRun r ls → is_in_run r x.class ≡ true → AreRun r (take at ls ++ x ∷ drop (at + 1) ls)
are_run-replaced r x [] zero h k = (k, tt)
are_run-replaced r x [] (suc at) h k = rw (suc-add at 1) (k, tt)
are_run-replaced r x (l ∷ ls) zero h k = (k, h.1)
are_run-replaced r x (l ∷ ls) (suc at) h k = rw (suc-add at 1) (h.0, are_run-replaced r x ls at h.1 k)

-- what is left of what was known, with another line in the place of one
pub known-replaced : (old new : Option Run) (x : LocatedLine) (ls whole : List LocatedLine) (at : ℕ) → IfSome old (λ r. AreRun r ls) → IfSome new (λ r. (old ≡ Some r) × (is_in_run r x.class ≡ true))
    → whole ≡ take at ls ++ x ∷ drop (at + 1) ls → IfSome new (λ r. AreRun r whole)
known-replaced old None x ls whole at h k e = tt
known-replaced None (Some r) x ls whole at h k e = absurd (let q = k.0 in cc)
known-replaced (Some q) (Some r) x ls whole at h k e =
    let same : q ≡ r = (let s = k.0 in cc) in
    subst (AreRun r) (sym e) (are_run-replaced r x ls at (subst (λ z. AreRun z ls) same h) k.1)

-- what stands below the next line is passed with it
pub pass-step : {A : _} (run : Run) (most number more : ℕ) (whole : List LocatedLine) (old new : List (Option (Bor (Line A)))) (last : Option (Bor (Line A))) (l : Bor (Line A)) (after : List LocatedLine × ℕ)
    → old ≡ new ++ last ∷ [] → last ≡ Some l → after ≡ l.now.node.value.right → more ≡ length after.0 → more < most - number
    → is_in_run run (line_view l.now).class ≡ true → AreRun run after.0 → Passes run most number whole (lines_ahead old)
    → Passes run most (number + (more + 1)) whole (lines_ahead new)
pass-step run most number more whole old new last l after e f a n few first rest p =
    let right = l.now.node.value.right in
    let ahead : lines_ahead old ≡ line_view l.now ∷ right.0 ++ lines_ahead new = ap lines_ahead (rw f at e) ∙ lines_ahead-push new l in
    let right_run : AreRun run right.0 = subst (λ z. AreRun run z.0) a rest in
    record {
      passed = p.passed ++ line_view l.now ∷ right.0;
      ahead_is = p.ahead_is ∙ (ap (λ z. p.passed ++ z) ahead ∙ sym (append_assoc p.passed (line_view l.now ∷ right.0) (lines_ahead new)));
      number_is = omega (arith, p.number_is, n, ap (λ z. length z.0) a, length-append p.passed (line_view l.now ∷ right.0));
      few = omega (arith, few);
      are_run = are_run-append run p.passed (line_view l.now ∷ right.0) p.are_run (first, right_run);
    }

-- before the first is passed
pub pass-none : (run : Run) (most : ℕ) (whole : List LocatedLine) → Passes run most 0 whole whole
pass-none run most whole = record { passed = []; ahead_is = refl; number_is = refl; few = omega arith; are_run = tt }
