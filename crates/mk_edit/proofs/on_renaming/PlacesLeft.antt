-- A turn of a rename goes from one noted place to the next: the lines between do not hold the word, and are not exchanged. The line
-- at a place is the one that is noted.
use Rattle.std.proofs.Common.{◌≡◌, refl, sym, ap, ◌∙◌, subst, arith, ℕ, ◌+◌, ◌<◌, ◌≤◌, Bool, true, false, List, [], ◌∷◌, ◌++◌, drop, get_or, length, append-nil, map, Option, Some, None}
use Rattle.std.specs.Prelude.{if◌then◌else◌}
use Rattle.std.proofs.lemmas.List.{drop_all}
use Rattle.std.proofs.lemmas.Option.{slice_get_read}
use Rattle.mk_lines.specs.Limits.{max_text}
use Rattle.mk_class.specs.Contexts.{Context, start, context_after_located}
use Rattle.mk_tree.specs.Counting.{AreCounted}
use Rattle.mk_tree.specs.LocatedLines.{LocatedLine}
use Rattle.mk_tree.specs.TreeWalks.{LinesInContext}
use Rattle.mk_tree.proofs.Indices.{drop_get}
use Rattle.mk_patch.specs.Moves.{Move, MovesWithRoom}
use Rattle.mk_edit.specs.RenameTargetPatches.{CanBeRenamed, CanEachBeRenamed, HeldLine, exchanged_count, held_line, held_places, held_places_from, held_view, holds_word, is_exchanged, line_renamed, tally_of, turn_moves}
use Rattle.mk_edit.specs.declared.rename_target_effect.Turn.{Turn}
use Rattle.mk_edit.specs.declared.rename_target_places.Held.{Held}
use Rattle.mk_edit.proofs.on_renaming.PatchLoops.{IsHandedOut, IsTurnBuilt, handed-out, turn-refused, turn-stepped, with_step}
use Rattle.mk_edit.proofs.on_renaming.PatchPlans.{filter-step}
use Rattle.mk_edit.proofs.on_renaming.PatchTurns.{exchanged-holds}

-- ---- the places

module _ (t : Turn) (o n : List ℕ) (d : List LocatedLine) (before : MovesWithRoom) (meter : ℕ) where
  -- A turn that has these places left.
  pub record IsTurnLeft (now : MovesWithRoom) (places : List HeldLine) (meter_now : ℕ) : Type 0 where
    pub at : ℕ
    pub ahead : LinesInContext
    pub built : IsTurnBuilt t o n d before now at ahead meter meter_now
    pub places_are : places ≡ held_places_from o at ahead.context ahead.lines

  -- A turn that has come to the line of a place, and has the places below it left.
  pub record IsTurnThere (now : MovesWithRoom) (held : HeldLine) (below : List HeldLine) (meter_now : ℕ) : Type 0 where
    pub left : LinesInContext
    pub built : IsTurnBuilt t o n d before now held.place.at (record { context = held.place.context; lines = held.line ∷ left.lines }) meter meter_now
    pub tally_is : held.tally ≡ tally_of o held.line
    pub then_in : left.context ≡ context_after_located held.place.context held.line.class
    pub places_are : below ≡ held_places_from o (held.place.at + 1) left.context left.lines

  -- a line without the word is not exchanged
  not-exchanged : (l : LocatedLine) → holds_word o l ≡ false → is_exchanged t o n l ≡ false
  not-exchanged l h = go (is_exchanged t o n l) (exchanged-holds t o n l)
    where
      go : (b : Bool) → (b ≡ true → holds_word o l ≡ true) → b ≡ false
      go true f = let e : holds_word o l ≡ true = f refl in absurd (cc)
      go false f = refl

  -- a turn goes over it with no step
  passed-by : (now : MovesWithRoom) (at : ℕ) (c : Context) (l : LocatedLine) (ls : List LocatedLine) (m : ℕ) → holds_word o l ≡ false → IsTurnBuilt t o n d before now at (record { context = c; lines = l ∷ ls }) meter m
      → IsTurnBuilt t o n d before now (at + 1) (record { context = context_after_located c l.class; lines = ls }) meter m
  passed-by now at c l ls m h B =
      let b = is_exchanged t o n l in
      let e : b ≡ false = not-exchanged l h in
      let ahead : LinesInContext = record { context = c; lines = l ∷ ls } in
      let left : LinesInContext = record { context = context_after_located c l.class; lines = ls } in
      turn-stepped t o n d before meter now now at (at + 1) ahead left m m c at l None B (handed-out ahead left at (at + 1) c at l refl refl refl refl refl) (ap (λ z. if z then Some (line_renamed o n c l) else None) (sym e))
      (subst (λ z. AreCounted m (if z then 1 else 0) m) (sym e) (omega arith)) (omega arith) (omega arith) refl

  -- to the next place
  next-place : (now : MovesWithRoom) (p : HeldLine) (ps : List HeldLine) (m : ℕ) → IsTurnLeft now (p ∷ ps) m → IsTurnThere now p ps m
  next-place now p ps m L = go L.ahead.lines L.at L.ahead.context L.places_are L.built
    where
      go : (ls : List LocatedLine) (at : ℕ) (c : Context) → p ∷ ps ≡ held_places_from o at c ls → IsTurnBuilt t o n d before now at (record { context = c; lines = ls }) meter m → IsTurnThere now p ps m
      go [] at c e B = absurd (cc)
      go (l ∷ ls) at c e B = at-line (holds_word o l) refl e (go ls (at + 1) (context_after_located c l.class))
        where
          here : HeldLine
          here = held_line o at c l

          inside : Context
          inside = context_after_located c l.class

          below : List HeldLine
          below = held_places_from o (at + 1) inside ls

          at-line : (b : Bool) → holds_word o l ≡ b → p ∷ ps ≡ (if b then here ∷ below else below) → (p ∷ ps ≡ below → IsTurnBuilt t o n d before now (at + 1) (record { context = inside; lines = ls }) meter m → IsTurnThere now p ps m)
              → IsTurnThere now p ps m
          at-line true s i f =
              let first : here ≡ p = cc in
              subst (λ (z : HeldLine). IsTurnThere now z ps m) first (record {
                left = record { context = inside; lines = ls };
                built = B;
                tally_is = refl;
                then_in = refl;
                places_are = cc;
              })
          at-line false s i f = f i (passed-by now at c l ls m s B)

  -- ---- the start, one line on, and the end

  pub turn-begun : (places : List HeldLine) → CanEachBeRenamed o n start d → length d ≤ max_text → length before.moves + exchanged_count t o n d ≤ before.room → places ≡ held_places o d → IsTurnLeft before places meter
  turn-begun places can few fits h = record {
    at = 0;
    ahead = record { context = start; lines = d };
    built = record {
      can = can;
      few = omega (arith, few);
      room = refl;
      fits = fits;
      moves = refl;
      counted = refl;
      few_read = omega arith;
      forward = omega arith;
    };
    places_are = h;
  }

  -- the place at an index
  pub place-at : {A : _} (now : MovesWithRoom) (places : List (Held A)) (i : ℕ) (p : Held A) (m : ℕ) → i < length places → p ≡ get_or places i p → IsTurnLeft now (map held_view (drop i places)) m
      → IsTurnThere now (held_view p) (map held_view (drop (i + 1) places)) m
  place-at now places i p m h e L =
      let first : drop i places ≡ p ∷ drop (i + 1) places = drop_get places i p (sym (slice_get_read places (length places) i p refl h e)) in
      next-place now (held_view p) (map held_view (drop (i + 1) places)) m (subst (λ ps. IsTurnLeft now (map held_view ps) m) first L)

  -- A turn at the line of a place.
  module _ (now : MovesWithRoom) (p : HeldLine) (ps : List HeldLine) (m : ℕ) (T : IsTurnThere now p ps m) where
    abbrev ahead : LinesInContext
    ahead = record { context = p.place.context; lines = p.line ∷ T.left.lines }

    line-handed : IsHandedOut ahead T.left p.place.at (p.place.at + 1) p.place.context p.place.at p.line
    line-handed = handed-out ahead T.left p.place.at (p.place.at + 1) p.place.context p.place.at p.line refl refl T.then_in refl refl

    -- the line can be renamed
    pub there-can : CanBeRenamed o n p.place.context p.line
    there-can = T.built.can.0

    -- there is room for its step
    pub there-fits : (x y : LocatedLine) → Some x ≡ (if is_exchanged t o n p.line then Some y else None) → length now.moves < now.room
    there-fits x y e = go (is_exchanged t o n p.line) e refl
      where
        one : Bool → ℕ
        one b = if b then 1 else 0

        number : exchanged_count t o n (p.line ∷ T.left.lines) ≡ one (is_exchanged t o n p.line) + exchanged_count t o n T.left.lines
        number = filter-step (is_exchanged t o n) p.line T.left.lines

        go : (b : Bool) → Some x ≡ (if b then Some y else None) → b ≡ is_exchanged t o n p.line → length now.moves < now.room
        go true i k = omega (arith, T.built.fits, number, ap one k)
        go false i k = absurd (cc)

    -- one line on
    pub turn-on : (after : MovesWithRoom) (k : ℕ) (r : Option LocatedLine) → r ≡ (if is_exchanged t o n p.line then Some (line_renamed o n p.place.context p.line) else None) → AreCounted m (if is_exchanged t o n p.line then 1 else 0) k
        → k ≤ m + (if is_exchanged t o n p.line then 1 else 0) → m ≤ k → after ≡ with_step now p.place.at r → IsTurnLeft after ps k
    turn-on after k r e counted few forward w = record {
      at = p.place.at + 1;
      ahead = T.left;
      built = turn-stepped t o n d before meter now after p.place.at (p.place.at + 1) ahead T.left m k p.place.context p.place.at p.line r T.built line-handed e counted few forward w;
      places_are = T.places_are;
    }

    -- a line that could not be read is one of those ahead
    pub turn-broken : (k : ℕ) → k ≤ m + (if is_exchanged t o n p.line then 1 else 0) → k ≤ meter + exchanged_count t o n d
    turn-broken k few = turn-refused t o n d before meter now p.place.at (p.place.at + 1) ahead T.left m k p.place.context p.place.at p.line T.built line-handed few

  -- A turn that is done: its steps are in the patch, and its lines are counted.
  pub record IsTurnDone (now : MovesWithRoom) (meter_now : ℕ) : Type 0 where
    pub moves : now ≡ record before { moves = before.moves ++ turn_moves t o n d }
    pub counted : AreCounted meter (exchanged_count t o n d) meter_now
    pub few_read : meter_now ≤ meter + exchanged_count t o n d
    pub forward : meter ≤ meter_now

  -- with no place left, it is done
  turn-done : (now : MovesWithRoom) (m : ℕ) → IsTurnLeft now [] m → IsTurnDone now m
  turn-done now m L = go L.ahead.lines L.at L.ahead.context L.places_are L.built
    where
      over : (at : ℕ) (c : Context) → IsTurnBuilt t o n d before now at (record { context = c; lines = [] }) meter m → IsTurnDone now m
      over at c B =
          let mk : List Move → ℕ → MovesWithRoom = λ ms r. record { moves = ms; room = r } in
          record {
            moves = ap (λ ms. mk ms now.room) (sym (append-nil now.moves) ∙ B.moves) ∙ ap (mk (before.moves ++ turn_moves t o n d)) B.room;
            counted = omega (arith, B.counted);
            few_read = omega (arith, B.few_read);
            forward = B.forward;
          }

      go : (ls : List LocatedLine) (at : ℕ) (c : Context) → [] ≡ held_places_from o at c ls → IsTurnBuilt t o n d before now at (record { context = c; lines = ls }) meter m → IsTurnDone now m
      go [] at c e B = over at c B
      go (l ∷ ls) at c e B = at-line (holds_word o l) refl e (go ls (at + 1) (context_after_located c l.class))
        where
          inside : Context
          inside = context_after_located c l.class

          below : List HeldLine
          below = held_places_from o (at + 1) inside ls

          at-line : (b : Bool) → holds_word o l ≡ b → [] ≡ (if b then held_line o at c l ∷ below else below)
              → ([] ≡ below → IsTurnBuilt t o n d before now (at + 1) (record { context = inside; lines = ls }) meter m → IsTurnDone now m) → IsTurnDone now m
          at-line true s i f = absurd (cc)
          at-line false s i f = f i (passed-by now at c l ls m s B)

  -- an index past all places
  pub turn-over : {A : _} (now : MovesWithRoom) (places : List (Held A)) (i m : ℕ) → length places ≤ i → IsTurnLeft now (map held_view (drop i places)) m → IsTurnDone now m
  turn-over now places i m h L = turn-done now m (subst (λ ps. IsTurnLeft now (map held_view ps) m) (drop_all i places h) L)
