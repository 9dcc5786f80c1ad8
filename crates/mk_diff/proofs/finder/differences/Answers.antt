use Rattle.std.proofs.Common.{◌-◌, ◌<◌, ◌++◌, ◌∷◌, [], List, length, drop, arith, sym, subst, append-nil, ◌+◌}
use Rattle.mk_diff.specs.Stretches.{AreApart, Leads, shown}
use Rattle.mk_diff.specs.declared.stretch.Stretch.{Stretch}
use Rattle.mk_diff.proofs.FinderLemmas.{Completes, completes-end, completes-front, completes-last, differ-drop, further}
use Rattle.std.proofs.lemmas.List.{length-drop}
use Rattle.std.proofs.lemmas.Option.{MatchOption-at_none, MatchOption-at_some}
use Rattle.mk_diff.proofs.ShownLemmas.{found-within, length-shown, shown-rest, within-rest}
use Rattle.mk_diff.proofs.finder.differences.Goals as goal
use Rattle.mk_diff.proofs.finder.differences.Goals.{then-old_at-old, else-old_at-old+then-new_at-new}

pub stretches-init : goal.stretches-init
stretches-init g c =
    let old = shown c.args.old.now in
    let new = shown c.args.new.now in
    let n = c.common_front-old_at.result in
    let front = c.common_front-old_at.ensures in (
      front.old_within,
      front.new_within,
      differ-drop old new n old new front.stops,
      tt,
      subst (Completes old new n n) (sym c.new-stretches.ensures.items) (completes-front old new n front.same),
    )

pub next_match-requires-clause-differ : goal.next_match-requires-clause-differ
next_match-requires-clause-differ g c =
    rw (shown-rest c.stretches.old_at c.args.old.now) c.stretches.invariant.2

pub stretches-preserved : goal.stretches-preserved
stretches-preserved g c =
    let old = c.args.old.now in
    let new = c.args.new.now in
    let i = c.stretches.old_at in
    let j = c.stretches.new_at in
    let a = c.in-Some.found.removed in
    let b = c.in-Some.found.added in
    let n = c.common_front-same.result in
    let more = c.common_front-same.ensures in
    let is = further (shown old) (shown new) i j a b n c.stretches.stretches.items c.stretches.invariant.4
    (omega (arith, length-shown old)) (omega (arith, length-shown new))
    (rw (shown-rest i old) at (MatchOption-at_some _ _ _ c.in-Some.is c.in_ok-found.ensures.found))
    (rw (shown-rest (i + a) old, shown-rest (j + b) new) at more.same)
    (within-rest n (i + a) old more.old_within) (within-rest n (j + b) new more.new_within)
    (rw (shown-rest (i + a) old, shown-rest (j + b) new) at more.stops) in (
      omega (arith, is.old_in, length-shown old),
      omega (arith, is.new_in, length-shown new),
      is.differ,
      c.next_match.ensures.listed,
      subst (Completes (shown old) (shown new) _ _) (sym c.in_ok-push-2.ensures.items) is.completes,
    )

pub returns-in_default-clause-leads : goal.returns-in_default-clause-leads
returns-in_default-clause-leads g c =
    let old = c.args.old.now in
    let new = c.args.new.now in
    let i = c.stretches.old_at in
    let j = c.stretches.new_at in
    let unlike : AreApart (drop i (shown old)) (drop j (shown new)) = rw (shown-rest i old) at (MatchOption-at_none _ _ c.in_default.is c.in_ok-found.ensures.found) in
    let some : 0 < (length (shown old) - i) + (length (shown new) - j) = elim c.if-old_at-old.branch [
      | then-old_at-old w ↦ omega (arith, length-shown old, w.if-old_at-old.true)
      | else-old_at-old+then-new_at-new w ↦ omega (arith, length-shown new, w.if-new_at-new.true)
    ] in
    let leads = completes-last (shown old) (shown new) i j c.stretches.stretches.items c.stretches.invariant.4
    (omega (arith, length-shown old)) (omega (arith, length-shown new)) some unlike in
    let own : Leads (shown old) (shown new) 0 0 0 (c.stretches.stretches.items ++ record { old_start = i; old_end = length old; new_start = j; new_end = length new } ∷ []) (length (shown old)) (length (shown new)) =
    rw (← length-shown old, ← length-shown new) leads in
    subst (λ (found : List Stretch). Leads (shown old) (shown new) 0 0 0 found (length (shown old)) (length (shown new))) (sym c.in_ok-push.ensures.items) own

pub returns-clause-leads : goal.returns-clause-leads
returns-clause-leads g c =
    let old = c.args.old.now in
    let new = c.args.new.now in
    rw append-nil at (completes-end (shown old) (shown new) c.stretches.old_at c.stretches.new_at c.stretches.stretches.items c.stretches.invariant.4
    (omega (arith, length-shown old)) (omega (arith, length-shown new)))

-- ---- a stretch ends within both texts, and so does what they have in common after it

pub overflow_add-old_end : goal.overflow_add-old_end
overflow_add-old_end g c =
    let within = found-within c.stretches.old_at c.stretches.new_at c.in-Some.found c.args.old.now c.args.new.now c.stretches.invariant.0 c.stretches.invariant.1 (MatchOption-at_some _ _ _ c.in-Some.is c.in_ok-found.ensures.found) in
    omega (arith, within)

pub overflow_add-new_end : goal.overflow_add-new_end
overflow_add-new_end g c =
    let within = found-within c.stretches.old_at c.stretches.new_at c.in-Some.found c.args.old.now c.args.new.now c.stretches.invariant.0 c.stretches.invariant.1 (MatchOption-at_some _ _ _ c.in-Some.is c.in_ok-found.ensures.found) in
    omega (arith, within)

pub offset_bounds-old-old_end : goal.offset_bounds-old-old_end
offset_bounds-old-old_end g c =
    let within = found-within c.stretches.old_at c.stretches.new_at c.in-Some.found c.args.old.now c.args.new.now c.stretches.invariant.0 c.stretches.invariant.1 (MatchOption-at_some _ _ _ c.in-Some.is c.in_ok-found.ensures.found) in
    omega (arith, within)

pub slice_bounds-common_front-start : goal.slice_bounds-common_front-start
slice_bounds-common_front-start g c =
    let within = found-within c.stretches.old_at c.stretches.new_at c.in-Some.found c.args.old.now c.args.new.now c.stretches.invariant.0 c.stretches.invariant.1 (MatchOption-at_some _ _ _ c.in-Some.is c.in_ok-found.ensures.found) in
    within.0

pub offset_bounds-new-new_end : goal.offset_bounds-new-new_end
offset_bounds-new-new_end g c =
    let within = found-within c.stretches.old_at c.stretches.new_at c.in-Some.found c.args.old.now c.args.new.now c.stretches.invariant.0 c.stretches.invariant.1 (MatchOption-at_some _ _ _ c.in-Some.is c.in_ok-found.ensures.found) in
    omega (arith, within)

pub slice_bounds-common_front-start-in-stretches : goal.slice_bounds-common_front-start-in-stretches
slice_bounds-common_front-start-in-stretches g c =
    let within = found-within c.stretches.old_at c.stretches.new_at c.in-Some.found c.args.old.now c.args.new.now c.stretches.invariant.0 c.stretches.invariant.1 (MatchOption-at_some _ _ _ c.in-Some.is c.in_ok-found.ensures.found) in
    within.1

pub overflow_add-old_at : goal.overflow_add-old_at
overflow_add-old_at g c =
    let within = found-within c.stretches.old_at c.stretches.new_at c.in-Some.found c.args.old.now c.args.new.now c.stretches.invariant.0 c.stretches.invariant.1 (MatchOption-at_some _ _ _ c.in-Some.is c.in_ok-found.ensures.found) in
    omega (arith, within, c.common_front-same.ensures.old_within)

pub overflow_add-new_at : goal.overflow_add-new_at
overflow_add-new_at g c =
    let within = found-within c.stretches.old_at c.stretches.new_at c.in-Some.found c.args.old.now c.args.new.now c.stretches.invariant.0 c.stretches.invariant.1 (MatchOption-at_some _ _ _ c.in-Some.is c.in_ok-found.ensures.found) in
    omega (arith, within, c.common_front-same.ensures.new_within)

pub stretches-smaller : goal.stretches-smaller
stretches-smaller g c =
    let old = c.args.old.now in
    let new = c.args.new.now in
    let i = c.stretches.old_at in
    let j = c.stretches.new_at in
    let is = rw (shown-rest i old) at (MatchOption-at_some _ _ _ c.in-Some.is c.in_ok-found.ensures.found) in
    omega (arith, is.old_within, is.new_within, is.further, length-drop i (shown old), length-drop j (shown new), length-shown old, length-shown new)
