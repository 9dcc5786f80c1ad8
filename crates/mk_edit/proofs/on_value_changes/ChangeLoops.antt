-- The walk of one turn of a change of values over its notes: the steps that were added so far, and then those of the notes ahead,
-- are the steps of all notes.
use Rattle.std.proofs.Common.{◌≡◌, refl, sym, ap, ◌∙◌, subst, arith, ℕ, suc, ◌+◌, ◌<◌, ◌≤◌, Bool, true, false, not, List, [], ◌∷◌, ◌++◌, append-nil, drop, get_or, length, length-append, map, Option, Some, None}
use Rattle.std.specs.Prelude.{if◌then◌else◌}
use Rattle.std.proofs.lemmas.List.{drop_all}
use Rattle.std.proofs.lemmas.Option.{slice_get_read}
use Rattle.mk_tree.specs.Counting.{AreCounted}
use Rattle.mk_tree.specs.LocatedLines.{LocatedLine}
use Rattle.mk_tree.proofs.Indices.{drop_get}
use Rattle.mk_edit_language.specs.Edits.{ValueChange}
use Rattle.mk_patch.specs.Moves.{Move, Exchange, MovesWithRoom}
use Rattle.mk_edit.specs.ChangeValuesPatches.{AreChangeable, changing_moves, is_of_turn, line_changed, turn_moves}
use Rattle.mk_edit.specs.ChangeValuesSurveys.{MeantLine, meant_view}
use Rattle.mk_edit.specs.RenameTargetPatches.{before_moves}
use Rattle.mk_edit.specs.ValueChangeLines.{is_longer}
use Rattle.mk_edit.specs.declared.change_values_places.Meant.{Meant}
use Rattle.mk_edit.specs.declared.rename_target_effect.Turn.{Turn}
use Rattle.mk_edit.specs.declared.rename_target_effect.Turn.TheVariants as turn
use Rattle.mk_edit.proofs.on_renaming.PatchLoops.{added, counted-on, with_step}

-- how many moves one note adds
abbrev one_if : Bool → ℕ
one_if b = if b then 1 else 0

before-number : (b : Bool) (m : Move) (ms : List Move) → length (before_moves b m ms) ≡ one_if b + length ms
before-number true m ms = omega arith
before-number false m ms = omega arith

module _ (t : Turn) (c : ValueChange) (all : List MeantLine) (before : MovesWithRoom) (meter : ℕ) where
  -- A turn that has these notes ahead.
  pub record IsTurnAt (now : MovesWithRoom) (rest : List MeantLine) (m : ℕ) : Type 0 where
    pub can : AreChangeable c rest
    pub room : now.room ≡ before.room
    pub fits : length now.moves + length (turn_moves t c rest) ≤ now.room
    pub moves : now.moves ++ turn_moves t c rest ≡ before.moves ++ turn_moves t c all
    pub counted : AreCounted meter (length (turn_moves t c all)) (m + length (turn_moves t c rest))
    pub few_read : m + length (turn_moves t c rest) ≤ meter + length (turn_moves t c all)
    pub forward : meter ≤ m

  pub turn-begun : AreChangeable c all → length before.moves + length (turn_moves t c all) ≤ before.room → IsTurnAt before all meter
  turn-begun can fits = record {
    can = can;
    room = refl;
    fits = fits;
    moves = refl;
    counted = refl;
    few_read = omega arith;
    forward = omega arith;
  }

  -- the note at an index
  pub turn-there : {A : _} (now : MovesWithRoom) (places : List (Meant A)) (i : ℕ) (p : Meant A) (m : ℕ) → i < length places → p ≡ get_or places i p → IsTurnAt now (map meant_view (drop i places)) m
      → IsTurnAt now (meant_view p ∷ map meant_view (drop (i + 1) places)) m
  turn-there now places i p m h e T =
      let first : drop i places ≡ p ∷ drop (i + 1) places = drop_get places i p (sym (slice_get_read places (length places) i p refl h e)) in
      subst (λ ps. IsTurnAt now (map meant_view ps) m) first T

  module _ (now : MovesWithRoom) (p : MeantLine) (ps : List MeantLine) (m : ℕ) (T : IsTurnAt now (p ∷ ps) m) where
    abbrev is_of : Bool
    is_of = is_of_turn t c p

    here-number : length (turn_moves t c (p ∷ ps)) ≡ one_if is_of + length (turn_moves t c ps)
    here-number = before-number is_of (Exchange p.place.at (line_changed c p)) (turn_moves t c ps)

    -- there is room for its step
    pub here-fits : (x y : LocatedLine) → Some x ≡ (if is_of then Some y else None) → length now.moves < now.room
    here-fits x y e = go is_of e here-number
      where
        go : (b : Bool) → Some x ≡ (if b then Some y else None) → length (turn_moves t c (p ∷ ps)) ≡ one_if b + length (turn_moves t c ps) → length now.moves < now.room
        go true e k = omega (arith, T.fits, k)
        go false e k = absurd (cc)

    -- one note on
    pub turn-on : (after : MovesWithRoom) (k : ℕ) (r : Option LocatedLine) → r ≡ (if is_of then Some (line_changed c p) else None) → AreCounted m (one_if is_of) k → k ≤ m + one_if is_of → m ≤ k → after ≡ with_step now p.place.at r → IsTurnAt after ps k
    turn-on after k r e counted few forward w =
        let x = line_changed c p in
        let rest = turn_moves t c ps in
        let made : after ≡ with_step now p.place.at (if is_of then Some x else None) = w ∙ ap (with_step now p.place.at) e in
        let A = added is_of p.place.at x rest now after made in
        record {
          can = T.can.1;
          room = A.room ∙ T.room;
          fits = omega (arith, T.fits, A.room, A.number, here-number);
          moves = A.moves ∙ T.moves;
          counted = counted-on m k (one_if is_of) (length (turn_moves t c (p ∷ ps))) (length rest) (meter + length (turn_moves t c all)) here-number counted T.counted;
          few_read = omega (arith, T.few_read, few, here-number);
          forward = omega (arith, T.forward, forward);
        }

    -- a line that could not be read is one of those ahead
    pub turn-refused : (k : ℕ) → k ≤ m + one_if is_of → k ≤ meter + length (turn_moves t c all)
    turn-refused k few = omega (arith, T.few_read, few, here-number)

  -- the turn at its end
  pub record IsTurnDone (now : MovesWithRoom) (m : ℕ) : Type 0 where
    pub moves : now ≡ record before { moves = before.moves ++ turn_moves t c all }
    pub counted : AreCounted meter (length (turn_moves t c all)) m
    pub few_read : m ≤ meter + length (turn_moves t c all)
    pub forward : meter ≤ m

  pub turn-over : {A : _} (now : MovesWithRoom) (places : List (Meant A)) (i m : ℕ) → length places ≤ i → IsTurnAt now (map meant_view (drop i places)) m → IsTurnDone now m
  turn-over now places i m h T =
      let U : IsTurnAt now [] m = subst (λ ps. IsTurnAt now (map meant_view ps) m) (drop_all i places h) T in
      let moves : now.moves ≡ before.moves ++ turn_moves t c all = sym (append-nil now.moves) ∙ U.moves in
      let none : m + 0 ≡ m = omega arith in
      record {
        moves = ap (λ (r : ℕ). record now { room = r }) U.room ∙ ap (λ z. record before { moves = z }) moves;
        counted = subst (λ z. AreCounted meter (length (turn_moves t c all)) z) none U.counted;
        few_read = omega (arith, U.few_read);
        forward = U.forward;
      }

-- ---- both turns

-- each line that is changed is exchanged in one of the two turns
pub turns-number : (c : ValueChange) (ms : List MeantLine) → length (turn_moves turn.NoLonger c ms) + length (turn_moves turn.Longer c ms) ≡ length ms
turns-number c [] = refl
turns-number c (m ∷ ms) = go (is_longer c m.line) (turns-number c ms)
  where
    x : Move
    x = Exchange m.place.at (line_changed c m)

    go : (b : Bool) → length (turn_moves turn.NoLonger c ms) + length (turn_moves turn.Longer c ms) ≡ length ms
        → length (before_moves (not b) x (turn_moves turn.NoLonger c ms)) + length (before_moves b x (turn_moves turn.Longer c ms)) ≡ suc (length ms)
    go true h = omega (arith, h)
    go false h = omega (arith, h)

module _ (c : ValueChange) (ms : List MeantLine) (before : MovesWithRoom) (lines : ℕ) where
  pub room-first : before ≡ record { moves = []; room = lines } → lines ≡ length ms → length before.moves + length (turn_moves turn.NoLonger c ms) ≤ before.room
  room-first e k = omega (arith, turns-number c ms, k, ap (λ (z : MovesWithRoom). z.room) e, ap (λ (z : MovesWithRoom). length z.moves) e)

  pub room-second : (between : MovesWithRoom) → before ≡ record { moves = []; room = lines } → lines ≡ length ms → between ≡ record before { moves = before.moves ++ turn_moves turn.NoLonger c ms }
      → length between.moves + length (turn_moves turn.Longer c ms) ≤ between.room
  room-second between e k f =
      omega (
        arith,
        turns-number c ms,
        k,
        ap (λ (z : MovesWithRoom). z.room) f,
        ap (λ (z : MovesWithRoom). z.room) e,
        ap (λ (z : MovesWithRoom). length z.moves) f,
        length-append before.moves (turn_moves turn.NoLonger c ms),
        ap (λ (z : MovesWithRoom). length z.moves) e,
      )

  pub both-turns : (between after : MovesWithRoom) → before ≡ record { moves = []; room = lines } → between ≡ record before { moves = before.moves ++ turn_moves turn.NoLonger c ms }
      → after ≡ record between { moves = between.moves ++ turn_moves turn.Longer c ms } → after.moves ≡ changing_moves c ms
  both-turns between after e f h =
      let moves : between.moves ≡ turn_moves turn.NoLonger c ms = ap (λ (z : MovesWithRoom). z.moves) f ∙ ap (λ (z : MovesWithRoom). z.moves ++ turn_moves turn.NoLonger c ms) e in
      ap (λ (z : MovesWithRoom). z.moves) h ∙ ap (λ z. z ++ turn_moves turn.Longer c ms) moves
