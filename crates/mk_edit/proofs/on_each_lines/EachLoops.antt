-- The walk of one turn of an edit of several lines over its notes: the steps that were added so far, and then those of the notes
-- ahead, are the steps of all notes; and no line of the notes so far was misread.
use Rattle.std.proofs.Common.{◌≡◌, refl, sym, ap, ◌∙◌, subst, arith, ℕ, suc, ◌+◌, ◌<◌, ◌≤◌, Bool, true, false, not, List, [], ◌∷◌, ◌++◌, append-nil, append_assoc, drop, get_or, length, length-append, map, inl, inr}
use Rattle.std.specs.Prelude.{Ok, Err, IsErrAnd, Result, ◌⊎◌, ◌&&◌, ◌||◌}
use Rattle.std.proofs.lemmas.List.{drop_all}
use Rattle.std.proofs.lemmas.Option.{slice_get_read}
use Rattle.mk_tree.specs.Counting.{AreCounted}
use Rattle.mk_tree.specs.LocatedLines.{LocatedLine}
use Rattle.mk_tree.proofs.Indices.{drop_get}
use Rattle.mk_edit_language.specs.EachLine.{EachChange}
use Rattle.mk_edit_language.specs.declared.refusal.Refusal.{Refusal}
use Rattle.mk_edit_language.specs.declared.refusal.Refusal.TheVariants.{Misread, NoMemory}
use Rattle.mk_patch.specs.Moves.{Move, Exchange, MovesWithRoom}
use Rattle.mk_edit.specs.EachLinePatches.{AreChangeable, any_misread, is_note_misread, is_of_turn, line_after, misread_in, turn_moves}
use Rattle.mk_edit.specs.EachLineSurveys.{NotedLine, noted_view}
use Rattle.mk_edit.specs.LineChangePlans.{AreRead}
use Rattle.mk_edit.specs.RenameTargetPatches.{before_moves}
use Rattle.mk_edit.specs.declared.each_line_notes.Noted.{Noted}
use Rattle.mk_edit.specs.declared.rename_target_effect.Turn.{Turn}
use Rattle.mk_edit.specs.declared.rename_target_effect.Turn.TheVariants as turn
use Rattle.mk_edit.proofs.on_renaming.PatchLoops.{counted-on}

-- a refusal that is handed on, of lines that are made and read
pub read-refused : {A : Type 0} (n : ℕ) (b : Bool) (before after : ℕ) (q : Refusal) (r : Result A Refusal) → IsErrAnd r (λ z. z ≡ q) → (q ≡ NoMemory) ⊎ ((q ≡ Misread) × (b ≡ true)) → after ≤ before + n → before ≤ after → AreRead n b before after r
read-refused n b before after q (Ok x) i h few forward = absurd i
read-refused n b before after q (Err z) i h few forward =
    record { told = tt; refused = subst (λ y. (y ≡ NoMemory) ⊎ ((y ≡ Misread) × (b ≡ true))) (sym i) h; counted = tt; few_read = few; forward = forward }

module _ (t : Turn) (c : EachChange) (all : List NotedLine) (before : MovesWithRoom) (meter : ℕ) where
  -- A turn that has these notes ahead.
  pub record IsTurnAt (now : MovesWithRoom) (rest : List NotedLine) (m : ℕ) : Type 0 where
    pub can : AreChangeable c rest
    pub room : now.room ≡ before.room
    pub fits : length now.moves + length (turn_moves t c rest) ≤ now.room
    pub moves : now.moves ++ turn_moves t c rest ≡ before.moves ++ turn_moves t c all
    pub misread : misread_in t c rest ≡ misread_in t c all
    pub counted : AreCounted meter (length (turn_moves t c all)) (m + length (turn_moves t c rest))
    pub few_read : m + length (turn_moves t c rest) ≤ meter + length (turn_moves t c all)
    pub forward : meter ≤ m

  pub turn-begun : AreChangeable c all → length before.moves + length (turn_moves t c all) ≤ before.room → IsTurnAt before all meter
  turn-begun can fits = record {
    can = can;
    room = refl;
    fits = fits;
    moves = refl;
    misread = refl;
    counted = refl;
    few_read = omega arith;
    forward = omega arith;
  }

  -- the note at an index
  pub turn-there : {A : _} (now : MovesWithRoom) (notes : List (Noted A)) (i : ℕ) (p : Noted A) (m : ℕ) → i < length notes → p ≡ get_or notes i p → IsTurnAt now (map noted_view (drop i notes)) m
      → IsTurnAt now (noted_view p ∷ map noted_view (drop (i + 1) notes)) m
  turn-there now notes i p m h e T =
      let first : drop i notes ≡ p ∷ drop (i + 1) notes = drop_get notes i p (sym (slice_get_read notes (length notes) i p refl h e)) in
      subst (λ ps. IsTurnAt now (map noted_view ps) m) first T

  module _ (now : MovesWithRoom) (p : NotedLine) (ps : List NotedLine) (m : ℕ) (T : IsTurnAt now (p ∷ ps) m) where
    abbrev is_of : Bool
    is_of = is_of_turn t p.is_longer

    abbrev rest : List Move
    rest = turn_moves t c ps

    abbrev step : Move
    step = Exchange p.place.at (line_after c p)

    -- a note of the other turn is passed over
    pub turn-passed : is_of ≡ false → IsTurnAt now ps m
    turn-passed e =
        let same : turn_moves t c (p ∷ ps) ≡ rest = ap (λ b. before_moves b step rest) e in
        let read : misread_in t c (p ∷ ps) ≡ misread_in t c ps = ap (λ b. (b && is_note_misread c p) || misread_in t c ps) e in
        record {
          can = T.can.1;
          room = T.room;
          fits = omega (arith, T.fits, ap length same);
          moves = ap (λ z. now.moves ++ z) (sym same) ∙ T.moves;
          misread = sym read ∙ T.misread;
          counted = subst (λ z. AreCounted meter (length (turn_moves t c all)) (m + length z)) same T.counted;
          few_read = omega (arith, T.few_read, ap length same);
          forward = T.forward;
        }

    module _ (e : is_of ≡ true) where
      same : turn_moves t c (p ∷ ps) ≡ step ∷ rest
      same = ap (λ b. before_moves b step rest) e

      -- there is room for its step
      pub here-fits : length now.moves < now.room
      here-fits = omega (arith, T.fits, ap length same)

      -- whether it is misread is told first
      here-read : misread_in t c (p ∷ ps) ≡ (is_note_misread c p || misread_in t c ps)
      here-read = ap (λ b. (b && is_note_misread c p) || misread_in t c ps) e

      -- one note on
      pub turn-on : (after : MovesWithRoom) (k : ℕ) (x : LocatedLine) → x ≡ line_after c p → is_note_misread c p ≡ false → AreCounted m 1 k → k ≤ m + 1 → m ≤ k
          → after ≡ record now { moves = now.moves ++ Exchange p.place.at x ∷ [] } → IsTurnAt after ps k
      turn-on after k x is read counted few forward w =
          let room : after.room ≡ now.room = ap (λ (z : MovesWithRoom). z.room) w in
          let moves : after.moves ≡ now.moves ++ Exchange p.place.at x ∷ [] = ap (λ (z : MovesWithRoom). z.moves) w in
          let told : after.moves ++ rest ≡ now.moves ++ step ∷ rest =
          ap (λ z. z ++ rest) (moves ∙ ap (λ z. now.moves ++ Exchange p.place.at z ∷ []) is) ∙ append_assoc now.moves (step ∷ []) rest in
          let number : length after.moves ≡ length now.moves + 1 = ap length moves ∙ length-append now.moves (Exchange p.place.at x ∷ []) in
          let one : length (turn_moves t c (p ∷ ps)) ≡ 1 + length rest = omega (arith, ap length same) in
          record {
            can = T.can.1;
            room = room ∙ T.room;
            fits = omega (arith, T.fits, room, number, one);
            moves = told ∙ (ap (λ z. now.moves ++ z) (sym same) ∙ T.moves);
            misread = sym (here-read ∙ ap (λ b. b || misread_in t c ps) read) ∙ T.misread;
            counted = counted-on m k 1 (length (turn_moves t c (p ∷ ps))) (length rest) (meter + length (turn_moves t c all)) one counted T.counted;
            few_read = omega (arith, T.few_read, few, one);
            forward = omega (arith, T.forward, forward);
          }

      -- a line that could not be made is one of those ahead
      pub turn-refused : (k : ℕ) → k ≤ m + 1 → k ≤ meter + length (turn_moves t c all)
      turn-refused k few = omega (arith, T.few_read, few, ap length same)

      -- and one that was misread is misread among all
      pub turn-misread : (r : Refusal) → (r ≡ NoMemory) ⊎ ((r ≡ Misread) × (is_note_misread c p ≡ true)) → (r ≡ NoMemory) ⊎ ((r ≡ Misread) × (misread_in t c all ≡ true))
      turn-misread r (inl i) = inl i
      turn-misread r (inr i) = inr (i.0, sym T.misread ∙ (here-read ∙ ap (λ b. b || misread_in t c ps) i.1))

  -- the turn at its end
  pub record IsTurnDone (now : MovesWithRoom) (m : ℕ) : Type 0 where
    pub moves : now ≡ record before { moves = before.moves ++ turn_moves t c all }
    pub told : misread_in t c all ≡ false
    pub counted : AreCounted meter (length (turn_moves t c all)) m
    pub few_read : m ≤ meter + length (turn_moves t c all)
    pub forward : meter ≤ m

  pub turn-over : {A : _} (now : MovesWithRoom) (notes : List (Noted A)) (i m : ℕ) → length notes ≤ i → IsTurnAt now (map noted_view (drop i notes)) m → IsTurnDone now m
  turn-over now notes i m h T =
      let U : IsTurnAt now [] m = subst (λ ps. IsTurnAt now (map noted_view ps) m) (drop_all i notes h) T in
      let moves : now.moves ≡ before.moves ++ turn_moves t c all = sym (append-nil now.moves) ∙ U.moves in
      let none : m + 0 ≡ m = omega arith in
      record {
        moves = ap (λ (r : ℕ). record now { room = r }) U.room ∙ ap (λ z. record before { moves = z }) moves;
        told = sym U.misread;
        counted = subst (λ z. AreCounted meter (length (turn_moves t c all)) z) none U.counted;
        few_read = omega (arith, U.few_read);
        forward = U.forward;
      }

-- ---- both turns

-- each line that is changed is exchanged in one of the two turns
pub turns-number : (c : EachChange) (ns : List NotedLine) → length (turn_moves turn.NoLonger c ns) + length (turn_moves turn.Longer c ns) ≡ length ns
turns-number c [] = refl
turns-number c (n ∷ ns) = go n.is_longer (turns-number c ns)
  where
    x : Move
    x = Exchange n.place.at (line_after c n)

    go : (b : Bool) → length (turn_moves turn.NoLonger c ns) + length (turn_moves turn.Longer c ns) ≡ length ns
        → length (before_moves (not b) x (turn_moves turn.NoLonger c ns)) + length (before_moves b x (turn_moves turn.Longer c ns)) ≡ suc (length ns)
    go true h = omega (arith, h)
    go false h = omega (arith, h)

-- a line that is misread is so in one of the turns
turns-misread : (c : EachChange) (ns : List NotedLine) → any_misread c ns ≡ (misread_in turn.NoLonger c ns || misread_in turn.Longer c ns)
turns-misread c [] = refl
turns-misread c (n ∷ ns) = ap (λ z. is_note_misread c n || z) (turns-misread c ns) ∙ go n.is_longer (is_note_misread c n) (misread_in turn.NoLonger c ns) (misread_in turn.Longer c ns)
  where
    go : (b k p q : Bool) → (k || (p || q)) ≡ (((not b && k) || p) || ((b && k) || q))
    go true true true q = refl
    go true true false q = refl
    go true false true q = refl
    go true false false q = refl
    go false true p q = refl
    go false false true q = refl
    go false false false q = refl

-- the two turns tell whether one is
pub turns-read : (c : EachChange) (ns : List NotedLine) → misread_in turn.NoLonger c ns ≡ false → misread_in turn.Longer c ns ≡ false → any_misread c ns ≡ false
turns-read c ns h k = turns-misread c ns ∙ (ap (λ b. b || misread_in turn.Longer c ns) h ∙ k)

pub turns-first : (c : EachChange) (ns : List NotedLine) (r : Refusal) → (r ≡ NoMemory) ⊎ ((r ≡ Misread) × (misread_in turn.NoLonger c ns ≡ true)) → (r ≡ NoMemory) ⊎ ((r ≡ Misread) × (any_misread c ns ≡ true))
turns-first c ns r (inl i) = inl i
turns-first c ns r (inr i) = inr (i.0, turns-misread c ns ∙ ap (λ b. b || misread_in turn.Longer c ns) i.1)

pub turns-second : (c : EachChange) (ns : List NotedLine) (r : Refusal) → (r ≡ NoMemory) ⊎ ((r ≡ Misread) × (misread_in turn.Longer c ns ≡ true)) → (r ≡ NoMemory) ⊎ ((r ≡ Misread) × (any_misread c ns ≡ true))
turns-second c ns r (inl i) = inl i
turns-second c ns r (inr i) = inr (i.0, turns-misread c ns ∙ (ap (λ b. misread_in turn.NoLonger c ns || b) i.1 ∙ last (misread_in turn.NoLonger c ns)))
  where
    last : (b : Bool) → (b || true) ≡ true
    last true = refl
    last false = refl

module _ (c : EachChange) (ns : List NotedLine) (before : MovesWithRoom) (lines : ℕ) where
  pub room-first : before ≡ record { moves = []; room = lines } → lines ≡ length ns → length before.moves + length (turn_moves turn.NoLonger c ns) ≤ before.room
  room-first e k = omega (arith, turns-number c ns, k, ap (λ (z : MovesWithRoom). z.room) e, ap (λ (z : MovesWithRoom). length z.moves) e)

  pub room-second : (between : MovesWithRoom) → before ≡ record { moves = []; room = lines } → lines ≡ length ns → between ≡ record before { moves = before.moves ++ turn_moves turn.NoLonger c ns }
      → length between.moves + length (turn_moves turn.Longer c ns) ≤ between.room
  room-second between e k f =
      omega (
        arith,
        turns-number c ns,
        k,
        ap (λ (z : MovesWithRoom). z.room) f,
        ap (λ (z : MovesWithRoom). z.room) e,
        ap (λ (z : MovesWithRoom). length z.moves) f,
        length-append before.moves (turn_moves turn.NoLonger c ns),
        ap (λ (z : MovesWithRoom). length z.moves) e,
      )
