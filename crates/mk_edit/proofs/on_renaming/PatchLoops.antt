-- The walk of one turn of a rename: the steps that were added so far, and then those of the lines ahead, are the steps of all
-- lines.
use Rattle.std.proofs.Common.{◌≡◌, refl, sym, ap, ◌∙◌, subst, arith, ℕ, ◌+◌, ◌^◌, ◌≤◌, Bool, true, false, List, [], ◌∷◌, ◌++◌, length, length-append, append-nil, append_assoc, Option, Some, None}
use Rattle.std.specs.Prelude.{if◌then◌else◌, ◌-◌, min}
use Rattle.std.proofs.lemmas.List.{nil_from_length}
use Rattle.mk_lines.specs.Limits.{max_text}
use Rattle.mk_class.specs.Contexts.{Context, start, context_after_located}
use Rattle.mk_tree.specs.Counting.{AreCounted}
use Rattle.mk_tree.specs.LocatedLines.{LocatedLine}
use Rattle.mk_tree.specs.TreeWalks.{LinesInContext}
use Rattle.mk_patch.specs.Moves.{Move, Exchange, MovesWithRoom}
use Rattle.mk_edit.specs.RenameTargetPatches.{is_exchanged, exchanged_count, line_renamed, before_moves, turn_moves_from, turn_moves, renaming_moves, CanEachBeRenamed}
use Rattle.mk_edit.specs.declared.rename_target_effect.Turn.{Turn}
use Rattle.mk_edit.specs.declared.rename_target_effect.Turn.TheVariants as turn
use Rattle.mk_edit.proofs.on_renaming.PatchPlans.{filter-step}

-- Some lines ahead in a turn of the rename of a document; the first stands at this index. Each of them can be renamed. The patch
-- had some moves before, and has room for the moves of the lines ahead. The meter counts the lines that are exchanged, and no
-- others.
pub record IsTurnBuilt (t : Turn) (o n : List ℕ) (document : List LocatedLine) (before now : MovesWithRoom) (at : ℕ) (ahead : LinesInContext) (meter_before meter_now : ℕ) : Type 0 where
  pub can : CanEachBeRenamed o n ahead.context ahead.lines
  pub few : at + length ahead.lines ≤ max_text
  pub room : now.room ≡ before.room
  pub fits : length now.moves + exchanged_count t o n ahead.lines ≤ now.room
  pub moves : now.moves ++ turn_moves_from t o n at ahead.context ahead.lines ≡ before.moves ++ turn_moves t o n document
  pub counted : AreCounted meter_before (exchanged_count t o n document) (meter_now + exchanged_count t o n ahead.lines)
  pub few_read : meter_now + exchanged_count t o n ahead.lines ≤ meter_before + exchanged_count t o n document
  pub forward : meter_before ≤ meter_now

-- a patch with the step of a line at a place added, if the line is exchanged
abbrev pub with_step : MovesWithRoom → (at : ℕ) → Option LocatedLine → MovesWithRoom
with_step p at None = p
with_step p at (Some x) = record p { moves = p.moves ++ Exchange at x ∷ [] }

-- what one line adds, where it is exchanged or is not
pub record IsAdded (is_exchanged : Bool) (at : ℕ) (x : LocatedLine) (rest : List Move) (now after : MovesWithRoom) : Type 0 where
  pub room : after.room ≡ now.room
  pub number : length after.moves ≡ length now.moves + (if is_exchanged then 1 else 0)
  pub moves : after.moves ++ rest ≡ now.moves ++ before_moves is_exchanged (Exchange at x) rest

pub added : (b : Bool) (at : ℕ) (x : LocatedLine) (rest : List Move) (now after : MovesWithRoom) → after ≡ with_step now at (if b then Some x else None) → IsAdded b at x rest now after
added true at x rest now after e = record {
  room = ap (λ (z : MovesWithRoom). z.room) e;
  number = ap (λ (z : MovesWithRoom). length z.moves) e ∙ length-append now.moves (Exchange at x ∷ []);
  moves = ap (λ (z : MovesWithRoom). z.moves ++ rest) e ∙ append_assoc now.moves (Exchange at x ∷ []) rest;
}
added false at x rest now after e = record {
  room = ap (λ (z : MovesWithRoom). z.room) e;
  number = omega (arith, ap (λ (z : MovesWithRoom). length z.moves) e);
  moves = ap (λ (z : MovesWithRoom). z.moves ++ rest) e;
}

-- what a meter tells with the lines ahead, after the first of them
pub counted-on : (m k one ahead left total : ℕ) → ahead ≡ one + left → AreCounted m one k → min (m + ahead) (2 ^ 64 - 1) ≡ min total (2 ^ 64 - 1) → min (k + left) (2 ^ 64 - 1) ≡ min total (2 ^ 64 - 1)
counted-on m k one ahead left total number counted h = omega (arith, number, counted, h)

-- what a walk tells of the line that it hands out
pub record IsHandedOut (ahead left : LinesInContext) (at next : ℕ) (context : Context) (place : ℕ) (l : LocatedLine) : Type 0 where
  pub context_is : context ≡ ahead.context
  pub place_is : place ≡ at
  pub next_is : next ≡ at + 1
  pub first_is : ahead.lines ≡ l ∷ left.lines
  pub then_in : left.context ≡ context_after_located ahead.context l.class

pub handed-out : (ahead left : LinesInContext) (at next : ℕ) (context : Context) (place : ℕ) (l : LocatedLine) → context ≡ ahead.context → ahead.lines ≡ l ∷ left.lines → left.context ≡ context_after_located ahead.context l.class → place ≡ at → next ≡ at + 1
    → IsHandedOut ahead left at next context place l
handed-out ahead left at next context place l c f t p n = record { context_is = c; place_is = p; next_is = n; first_is = f; then_in = t }

module _ (t : Turn) (o n : List ℕ) (d : List LocatedLine) (before : MovesWithRoom) (meter : ℕ) where
  -- one line on
  pub turn-stepped : (now after : MovesWithRoom) (at next : ℕ) (ahead left : LinesInContext) (m k : ℕ) (c : Context) (place : ℕ) (l : LocatedLine) (r : Option LocatedLine) → IsTurnBuilt t o n d before now at ahead meter m
      → IsHandedOut ahead left at next c place l → r ≡ (if is_exchanged t o n l then Some (line_renamed o n c l) else None) → AreCounted m (if is_exchanged t o n l then 1 else 0) k → k ≤ m + (if is_exchanged t o n l then 1 else 0) → m ≤ k → after ≡ with_step now place r
      → IsTurnBuilt t o n d before after next left meter k
  turn-stepped now after at next ahead left m k c place l r B H e counted few forward w =
      let b = is_exchanged t o n l in
      let x = line_renamed o n ahead.context l in
      let inside = context_after_located ahead.context l.class in
      let rest = turn_moves_from t o n (at + 1) inside left.lines in
      let can : CanEachBeRenamed o n ahead.context (l ∷ left.lines) = subst (CanEachBeRenamed o n ahead.context) H.first_is B.can in
      let made : after ≡ with_step now at (if b then Some x else None) =
      w ∙ (ap (λ (z : Option LocatedLine). with_step now place z) (e ∙ ap (λ (z : Context). if b then Some (line_renamed o n z l) else None) H.context_is) ∙ ap (λ (z : ℕ). with_step now z (if b then Some x else None)) H.place_is) in
      let A = added b at x rest now after made in
      let number : exchanged_count t o n ahead.lines ≡ (if b then 1 else 0) + exchanged_count t o n left.lines = ap (exchanged_count t o n) H.first_is ∙ filter-step (is_exchanged t o n) l left.lines in
      let ahead_is : turn_moves_from t o n at ahead.context ahead.lines ≡ before_moves b (Exchange at x) rest = ap (turn_moves_from t o n at ahead.context) H.first_is in
      let left_is : turn_moves_from t o n next left.context left.lines ≡ rest = ap (λ (z : ℕ). turn_moves_from t o n z left.context left.lines) H.next_is ∙ ap (λ (z : Context). turn_moves_from t o n (at + 1) z left.lines) H.then_in in
      record {
        can = subst (λ (z : Context). CanEachBeRenamed o n z left.lines) (sym H.then_in) can.1;
        few = omega (arith, B.few, ap length H.first_is, H.next_is);
        room = A.room ∙ B.room;
        fits = omega (arith, B.fits, A.room, A.number, number);
        moves = ap (λ z. after.moves ++ z) left_is ∙ (A.moves ∙ (ap (λ z. now.moves ++ z) (sym ahead_is) ∙ B.moves));
        counted = counted-on m k (if b then 1 else 0) _ _ _ number counted B.counted;
        few_read = omega (arith, B.few_read, few, number);
        forward = omega (arith, B.forward, forward);
      }

  -- a line that could not be read is one of those ahead
  pub turn-refused : (now : MovesWithRoom) (at next : ℕ) (ahead left : LinesInContext) (m k : ℕ) (c : Context) (place : ℕ) (l : LocatedLine) → IsTurnBuilt t o n d before now at ahead meter m
      → IsHandedOut ahead left at next c place l → k ≤ m + (if is_exchanged t o n l then 1 else 0) → k ≤ meter + exchanged_count t o n d
  turn-refused now at next ahead left m k c place l B H few =
      let number : exchanged_count t o n ahead.lines ≡ (if is_exchanged t o n l then 1 else 0) + exchanged_count t o n left.lines = ap (exchanged_count t o n) H.first_is ∙ filter-step (is_exchanged t o n) l left.lines in
      omega (arith, B.few_read, few, number)

-- ---- both turns

-- a turn has as many steps as lines that are exchanged
turn_moves-number : (t : Turn) (o n : List ℕ) (at : ℕ) (c : Context) (ls : List LocatedLine) → length (turn_moves_from t o n at c ls) ≡ exchanged_count t o n ls
turn_moves-number t o n at c [] = refl
turn_moves-number t o n at c (l ∷ ls) =
    go (is_exchanged t o n l) (Exchange at (line_renamed o n c l)) (turn_moves_from t o n (at + 1) (context_after_located c l.class) ls) (turn_moves-number t o n (at + 1) (context_after_located c l.class) ls)
    ∙ sym (filter-step (is_exchanged t o n) l ls)
  where
    go : (b : Bool) (m : Move) (ms : List Move) → length ms ≡ exchanged_count t o n ls → length (before_moves b m ms) ≡ (if b then 1 else 0) + exchanged_count t o n ls
    go true m ms h = omega (arith, h)
    go false m ms h = omega (arith, h)

-- a turn in which no line is exchanged has no step
pub no-steps : (t : Turn) (o n : List ℕ) (d : List LocatedLine) (before : MovesWithRoom) (lines : ℕ) → lines ≡ exchanged_count t o n d → lines ≡ 0 → before ≡ record before { moves = before.moves ++ turn_moves t o n d }
no-steps t o n d before lines h none =
    let e : turn_moves t o n d ≡ [] = nil_from_length (turn_moves t o n d) (turn_moves-number t o n 0 start d ∙ (sym h ∙ none)) in
    ap (λ z. record before { moves = z }) (sym (append-nil before.moves) ∙ ap (λ z. before.moves ++ z) (sym e))

-- A patch with room for the lines that hold the word has room for each turn after the other, and their steps are those of the rename.
module _ (o n : List ℕ) (d : List LocatedLine) (before : MovesWithRoom) (lines : ℕ) where
  pub room-first : before ≡ record { moves = []; room = lines } → exchanged_count turn.NoLonger o n d + exchanged_count turn.Longer o n d ≡ lines → length before.moves + exchanged_count turn.NoLonger o n d ≤ before.room
  room-first e number = omega (arith, number, ap (λ (z : MovesWithRoom). z.room) e, ap (λ (z : MovesWithRoom). length z.moves) e)

  pub room-second : (between : MovesWithRoom) → before ≡ record { moves = []; room = lines } → exchanged_count turn.NoLonger o n d + exchanged_count turn.Longer o n d ≡ lines
      → between ≡ record before { moves = before.moves ++ turn_moves turn.NoLonger o n d } → length between.moves + exchanged_count turn.Longer o n d ≤ between.room
  room-second between e number f =
      let room : between.room ≡ lines = ap (λ (z : MovesWithRoom). z.room) f ∙ ap (λ (z : MovesWithRoom). z.room) e in
      let moves : between.moves ≡ turn_moves turn.NoLonger o n d = ap (λ (z : MovesWithRoom). z.moves) f ∙ ap (λ (z : MovesWithRoom). z.moves ++ turn_moves turn.NoLonger o n d) e in
      omega (arith, number, room, ap length moves, turn_moves-number turn.NoLonger o n 0 start d)

  pub both-turns : (between after : MovesWithRoom) → before ≡ record { moves = []; room = lines } → between ≡ record before { moves = before.moves ++ turn_moves turn.NoLonger o n d }
      → after ≡ record between { moves = between.moves ++ turn_moves turn.Longer o n d } → after.moves ≡ renaming_moves o n d
  both-turns between after e f h =
      let moves : between.moves ≡ turn_moves turn.NoLonger o n d = ap (λ (z : MovesWithRoom). z.moves) f ∙ ap (λ (z : MovesWithRoom). z.moves ++ turn_moves turn.NoLonger o n d) e in
      ap (λ (z : MovesWithRoom). z.moves) h ∙ ap (λ z. z ++ turn_moves turn.Longer o n d) moves
