use Rattle.std.proofs.Common.{◌≡◌, ◌++◌, ◌∷◌, [], List, ℕ, length, rules, arith, sym, ap, subst, ◌∙◌, refl, append-nil, ap₂, ◌<◌, suc, inl, inr}
use Rattle.std.proofs.lemmas.List.{length_push, nil_from_length, take-append-drop}
use Rattle.mk_diff.specs.Hunks.{Hunk}
use Rattle.mk_diff.specs.Stretches.{Leads, hunk_of, shown}
use Rattle.mk_diff.specs.declared.stretch.Stretch.{Stretch}
use Rattle.mk_diff.proofs.AppliedLemmas.{hunk_texts-more, so-far-all, so-far-more, so-far-none}
use Rattle.mk_diff.proofs.ContextLemmas.{IsFloor, floor-room, floor-within, room-front}
use Rattle.mk_diff.proofs.unified.put_hunks.Goals as goal

pub hunks-init : goal.hunks-init
hunks-init g c =
    ([], 0, so-far-none (shown c.args.old.now) (shown c.args.new.now), inl (refl, refl), c.requires, (λ _. refl), sym (append-nil c.args.text.now.items))

pub hunks-preserved : goal.hunks-preserved
hunks-preserved g c =
    let old = shown c.args.old.now in
    let new = shown c.args.new.now in
    let whole = c.with_context-whole.result in
    let changed = c.split_at.result.0.now in
    let below = c.split_at.result.1.now in
    let (hunks, floor, so_far, room, leads, first, text) = c.hunks.invariant in
    let hunk : Hunk = hunk_of old new whole changed in
    let is = c.with_context-whole.ensures in
    let count : ℕ = c.near_count.result in
    let rest : List Stretch = c.hunks.rest.now in
    let parts : changed ++ below ≡ rest = ap₂ (λ (x y : List Stretch). x ++ y) c.split_at.ensures.front c.split_at.ensures.back ∙ take-append-drop count rest in
    let here : IsFloor floor c.hunks.old_at (changed ++ below) = subst (IsFloor floor c.hunks.old_at) (sym parts) room in
    let some : 0 < length changed = omega (arith, c.split_at.ensures.front_len, c.near_count.ensures.some) in (
      hunks ++ hunk ∷ [],
      suc whole.old_end,
      so-far-more old new floor c.hunks.old_at c.hunks.new_at hunks whole changed below so_far is (floor-within floor c.hunks.old_at whole.old_start changed below here some is.near),
      inr (refl, is.room),
      is.rest,
      (λ none. absurd (omega (arith, length_push hunks hunk, ap length none))),
      hunk_texts-more _ _ _ hunks hunk text c.in_ok-put_hunk.ensures.bytes,
    )

pub returns-clause-bytes : goal.returns-clause-bytes
returns-clause-bytes g c =
    let old = shown c.args.old.now in
    let new = shown c.args.new.now in
    let (hunks, floor, so_far, room, leads, first, text) = c.hunks.invariant in
    let none : c.hunks.rest.now ≡ [] = nil_from_length c.hunks.rest.now (search rules) in
    let end : Leads old new 0 c.hunks.old_at c.hunks.new_at [] (length old) (length new) =
    subst (λ (ss : List Stretch). Leads old new 0 c.hunks.old_at c.hunks.new_at ss (length old) (length new)) none leads in
    (hunks, so-far-all old new floor c.hunks.old_at c.hunks.new_at hunks so_far end, (λ empty. sym (first empty) ∙ none), text)

pub with_context-whole-requires-clause-room : goal.with_context-whole-requires-clause-room
with_context-whole-requires-clause-room g c =
    let (hunks, floor, so_far, room, leads, first, text) = c.hunks.invariant in
    let changed = c.split_at.result.0.now in
    let below = c.split_at.result.1.now in
    let count : ℕ = c.near_count.result in
    let rest : List Stretch = c.hunks.rest.now in
    let parts : changed ++ below ≡ rest = ap₂ (λ (x y : List Stretch). x ++ y) c.split_at.ensures.front c.split_at.ensures.back ∙ take-append-drop count rest in
    let here : IsFloor floor c.hunks.old_at (changed ++ below) = subst (IsFloor floor c.hunks.old_at) (sym parts) room in
    room-front c.hunks.old_at changed below (floor-room floor c.hunks.old_at (changed ++ below) here)
