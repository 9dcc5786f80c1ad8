-- A walk over the lines of a tree: one more line passed on its left side.
use Rattle.std.proofs.Common.{◌≡◌, ℕ, ◌+◌, ◌<◌, ◌≤◌, sym, ap, ◌∙◌, arith, ◌-◌, List, [], ◌∷◌, ◌++◌, length, length-append, drop, Option, Some, None, append_assoc, append-nil}
use Rattle.std.specs.Borrow.{Bor}
use Rattle.std.proofs.lemmas.List.{drop-append-le}
use Rattle.mk_tree.specs.LocatedLines.{LocatedLine}
use Rattle.mk_tree.proofs.Indices.{drop_right}
use Rattle.mk_tree.specs.Trees.{line_view, IsTop}
use Rattle.mk_tree.specs.TreeWalks.{lines_ahead, HaveRoom}
use Rattle.mk_tree.specs.declared.tree.Line.{Line}

pub lines_ahead-push : {A : _} (passed : List (Option (Bor (Line A)))) (l : Bor (Line A)) → lines_ahead (passed ++ Some l ∷ []) ≡ line_view l.now ∷ l.now.node.value.right.0 ++ lines_ahead passed
lines_ahead-push [] l = sym (append-nil (line_view l.now ∷ l.now.node.value.right.0))
lines_ahead-push (None ∷ passed) l = lines_ahead-push passed l
lines_ahead-push (Some x ∷ passed) l =
    ap (λ z. z ++ line_view x.now ∷ x.now.node.value.right.0) (lines_ahead-push passed l) ∙ append_assoc (line_view l.now ∷ l.now.node.value.right.0) (lines_ahead passed) (line_view x.now ∷ x.now.node.value.right.0)

HaveRoom-push : {A : _} (depth : ℕ) (passed : List (Option (Bor (Line A)))) (l : Bor (Line A)) → HaveRoom depth passed → depth + length passed + l.now.node.value.right.1 < 34 → HaveRoom depth (passed ++ Some l ∷ [])
HaveRoom-push depth [] l h k = (omega (arith, k), tt)
HaveRoom-push depth (None ∷ passed) l h k = elim h [ ]
HaveRoom-push depth (Some x ∷ passed) l h k = (h.0, HaveRoom-push (depth + 1) passed l h.1 (omega (arith, k)))

-- One step down to the left, on the way to an index: the line is passed, and what stands before it is still to be passed.
pub down-step : {A : _} (passed new : List (Option (Bor (Line A)))) (l : Bor (Line A)) (tree before : List LocatedLine × ℕ) (whole : List LocatedLine) (n m at : ℕ)
    → n ≡ length passed → m ≡ n + 1 → new ≡ passed ++ Some l ∷ [] → before ≡ l.now.node.value.left → IsTop tree l.now → at ≤ length before.0
    → n + tree.1 ≤ 34 → HaveRoom 0 passed → drop at tree.0 ++ lines_ahead passed ≡ whole
    → (m + before.1 ≤ 34) × HaveRoom 0 new × (drop at before.0 ++ lines_ahead new ≡ whole)
down-step passed new l tree before whole n m at count more e b top short room within ahead =
    let left = l.now.node.value.left in
    let right = l.now.node.value.right in
    let cut : drop at (left.0 ++ line_view l.now ∷ right.0) ≡ drop at left.0 ++ line_view l.now ∷ right.0 = drop-append-le at left.0 (line_view l.now ∷ right.0) (rw b at short) in (
      rw b (omega (arith, more, top.height, room)),
      rw e (HaveRoom-push 0 passed l within (omega (arith, count, top.height, room))),
      rw (e, b)
          (ap (λ z. drop at left.0 ++ z) (lines_ahead-push passed l)
          ∙ (sym (append_assoc (drop at left.0) (line_view l.now ∷ right.0) (lines_ahead passed))
          ∙ (ap (λ z. z ++ lines_ahead passed) (sym cut ∙ ap (drop at) (sym top.lines)) ∙ ahead))),
    )

-- One step down to the right: the line stands before the index, and so does what stands before the line.
pub down-right : {A : _} (passed : List (Option (Bor (Line A)))) (l : Bor (Line A)) (tree before after : List LocatedLine × ℕ) (whole : List LocatedLine) (n at k to : ℕ)
    → before ≡ l.now.node.value.left → after ≡ l.now.node.value.right → IsTop tree l.now → k ≡ length before.0 → k < at → at ≤ length tree.0 → to ≡ at - k - 1
    → n + tree.1 ≤ 34 → drop at tree.0 ++ lines_ahead passed ≡ whole
    → (n + after.1 ≤ 34) × (drop to after.0 ++ lines_ahead passed ≡ whole) × (to ≤ length after.0)
down-right passed l tree before after whole n at k to b a top count behind within new room ahead =
    let left = l.now.node.value.left in
    let right = l.now.node.value.right in
    let long : length left.0 ≡ k = ap (λ z. length z.0) (sym b) ∙ sym count in
    let cut : drop at (left.0 ++ line_view l.now ∷ right.0) ≡ drop to right.0 =
    drop_right left.0 right.0 (line_view l.now) at (omega arith) ∙ ap (λ i. drop i right.0) (let i : at - length left.0 - 1 ≡ to = omega arith in i) in
    let all : length tree.0 ≡ length left.0 + length (line_view l.now ∷ right.0) = ap length top.lines ∙ length-append left.0 (line_view l.now ∷ right.0) in (
      rw a (omega (arith, top.height, room)),
      rw a (ap (λ z. z ++ lines_ahead passed) (sym cut ∙ ap (drop at) (sym top.lines)) ∙ ahead),
      rw a (omega arith),
    )

-- the last line that was passed, if there is one, and the room below it
abbrev IsLastPassed : {A : _} → ℕ → Option (Bor (Line A)) → Type 0
IsLastPassed depth None = ⊥
IsLastPassed depth (Some l) = depth + l.now.node.value.right.1 < 34

HaveRoom-pop : {A : _} (depth : ℕ) (passed : List (Option (Bor (Line A)))) (last : Option (Bor (Line A))) → HaveRoom depth (passed ++ last ∷ []) → HaveRoom depth passed × IsLastPassed (depth + length passed) last
HaveRoom-pop depth [] None h = elim h [ ]
HaveRoom-pop depth [] (Some l) h = (tt, omega (arith, h.0))
HaveRoom-pop depth (None ∷ passed) last h = elim h [ ]
HaveRoom-pop depth (Some x ∷ passed) None h = elim (HaveRoom-pop (depth + 1) passed None h.1).1 [ ]
HaveRoom-pop depth (Some x ∷ passed) (Some l) h =
    let rest = HaveRoom-pop (depth + 1) passed (Some l) h.1 in
    ((h.0, rest.0), omega (arith, rest.1))

-- ---- the last line that was passed, taken off

pub pop-within : {A : _} (old new : List (Option (Bor (Line A)))) (last : Option (Bor (Line A))) (l : Bor (Line A)) → old ≡ new ++ last ∷ [] → last ≡ Some l → HaveRoom 0 old
    → (length new + l.now.node.value.right.1 ≤ 34) × HaveRoom 0 new
pop-within old new last l e f h =
    let here = HaveRoom-pop 0 new last (rw e at h) in
    let room : IsLastPassed (0 + length new) (Some l) = rw f at here.1 in
    (omega (arith, room), here.0)

-- there is room for it again
pub pop-room : {A : _} (old new : List (Option (Bor (Line A)))) (last : Option (Bor (Line A))) (l : Bor (Line A)) → old ≡ new ++ last ∷ [] → last ≡ Some l → HaveRoom 0 old → length new < 34
pop-room old new last l e f h =
    let room : IsLastPassed (0 + length new) (Some l) = rw f at (HaveRoom-pop 0 new last (rw e at h)).1 in
    omega (arith, room)

pub pop-nothing : {A : _} (old new : List (Option (Bor (Line A)))) (last : Option (Bor (Line A))) → old ≡ new ++ last ∷ [] → last ≡ None → HaveRoom 0 old → ⊥
pop-nothing {A} old new last e f h =
    let here = HaveRoom-pop 0 new last (rw e at h) in
    let room : IsLastPassed {A = A} (0 + length new) None = rw f at here.1 in
    room

pub pop-ahead : {A : _} (old new : List (Option (Bor (Line A)))) (last : Option (Bor (Line A))) (l : Bor (Line A)) (after : List LocatedLine × ℕ) (self ahead : List LocatedLine)
    → old ≡ new ++ last ∷ [] → last ≡ Some l → lines_ahead old ≡ self → after ≡ l.now.node.value.right → ahead ≡ after.0 ++ lines_ahead new → self ≡ line_view l.now ∷ ahead
pop-ahead old new last l after self ahead e f v a b =
    sym v ∙ (ap lines_ahead (rw f at e) ∙ (lines_ahead-push new l ∙ ap (λ z. line_view l.now ∷ z) (ap (λ z. z.0 ++ lines_ahead new) (sym a) ∙ sym b)))
