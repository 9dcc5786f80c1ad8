use Rattle.std.proofs.Common.{◌+◌, arith, length, drop, ◌∙◌, sym, subst, List, ℕ}
use Rattle.std.proofs.lemmas.List.{length-drop}
use Rattle.mk_diff.specs.Stretches.{IsNotIn, shown}
use Rattle.mk_diff.proofs.MatchLemmas.{match-far, unlike-more}
use Rattle.mk_diff.proofs.PlaceLemmas.{not-listed}
use Rattle.mk_diff.proofs.ShownLemmas.{length-shown, line_at-shown, shown-rest, within-rest}
use Rattle.mk_diff.proofs.matching.far_match.Goals as goal

pub loop-removed-preserved-then-not-is_listed_from : goal.loop-removed-preserved-then-not-is_listed_from
loop-removed-preserved-then-not-is_listed_from g c =
    let old = c.args.old.now in
    let new = c.args.new.now in
    let at = c.args.at in
    let removed = c.loop-removed.removed in
    unlike-more removed (length new) (shown old) (drop at (shown new)) c.loop-removed.invariant
    (subst (λ (l : List ℕ). IsNotIn l (drop at (shown new))) (sym (line_at-shown old removed _ c.loop-removed-test.true))
    (not-listed (shown new) at (length new) c.args.places.now _ c.requires.listed (sym (length-shown new)) (sym c.is_listed_from.ensures ∙ c.if-not-is_listed_from.true)))

pub loop-removed-preserved : goal.loop-removed-preserved
loop-removed-preserved g c =
    let old = c.args.old.now in
    let new = c.args.new.now in
    let at = c.args.at in
    let removed = c.loop-removed.removed in
    unlike-more removed (length new) (shown old) (drop at (shown new)) c.loop-removed.invariant
    (subst (λ (l : List ℕ). IsNotIn l (drop at (shown new))) (sym (line_at-shown old removed _ c.loop-removed-test.true))
    (rw (shown-rest at new) at c.in_default.ensures))

pub returns-in-Some : goal.returns-in-Some
returns-in-Some g c =
    let old = c.args.old.now in
    let new = c.args.new.now in
    let at = c.args.at in
    let removed = c.loop-removed.removed in
    let found = c.in-Some.ensures in
    let line = rw (shown-rest at new) at found.1 in
    match-far removed c.in-Some.added (length new) (shown old) (drop at (shown new)) c.requires.differ c.loop-removed.invariant
    (omega (arith, length-shown old)) (omega (arith, length-drop at (shown new), length-shown new, c.requires.within, within-rest (c.in-Some.added + 1) at new (omega (arith, found.0)))) (omega (arith, length-drop at (shown new), length-shown new))
    (line_at-shown old removed _ c.loop-removed-test.true ∙ sym line)
