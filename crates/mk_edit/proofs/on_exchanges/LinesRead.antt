-- New lines, read one after the other below the lines above them.
use Rattle.std.proofs.Common.{◌≡◌, refl, sym, ap, ◌∙◌, subst, arith, ℕ, suc, ◌+◌, ◌-◌, ◌^◌, ◌<◌, ◌≤◌, List, [], ◌∷◌, ◌++◌, append_assoc, append-nil, length, length-append}
use Rattle.std.proofs.Common.{inl, inr}
use Rattle.std.specs.Prelude.{◌⊎◌, min, max, Result, Ok, Err, IfErr, IsErrAnd}
use Rattle.mk_lines.specs.Limits.{max_text}
use Rattle.mk_lines.specs.LogicalLines.{logical_lines}
use Rattle.mk_lines.proofs.on_lines.LineLemmas.{among, OneLine-logical}
use Rattle.mk_lines.specs.Cells.{joined_byte}
use Rattle.mk_class.specs.Classes.Class.{If}
use Rattle.mk_class.specs.Contexts.{Admits, Context, conditionals_after, context_after, max_conditionals}
use Rattle.mk_class.specs.LineReads.{OpensTooDeep}
use Rattle.mk_class.specs.LocatedClasses.{located_class}
use Rattle.mk_class.specs.ClassTable.{class_of}
use Rattle.mk_class.specs.ClassedLines.{ClassedLine, classed}
use Rattle.mk_class.proofs.on_contexts.StepLemmas.{class_of-admits}
use Rattle.mk_tree.specs.Counting.{AreCounted}
use Rattle.mk_tree.specs.Documents.{most_conditionals}
use Rattle.mk_tree.specs.LineTexts.{line_in}
use Rattle.mk_tree.specs.LocatedLines.{LocatedLine, located_line, located_lines}
use Rattle.mk_tree.proofs.AdmissionLemmas.{conditionals-few_after, defines_after-few}
use Rattle.mk_edit_language.specs.declared.refusal.Refusal.{Refusal}
use Rattle.mk_edit_parts.specs.LocatedParts.{IsClassed}
use Rattle.mk_edit_parts.specs.declared.seek.Found.{Found}
use Rattle.mk_patch.specs.Moves.{MovesWithRoom, PutIn}
use Rattle.mk_edit.specs.ExchangePlans.{AreReadInto, AreTooDeepIn, end_before, end_after, end_after_all, lines_in, putting_moves}
use Rattle.mk_edit.specs.declared.lines_end.LinesEnd.{LinesEnd}

-- the lines of a text by its first line and those after it
abbrev lines_below : Context → List (List ℕ) → List LocatedLine
lines_below c ls = located_lines (classed c ls)

-- some lines are too deep
abbrev TooDeep : Context → List (List ℕ) → Type 0
TooDeep c ls = max_conditionals < most_conditionals c.conditionals (classed c ls)

-- no fewer are open at most than at first
pub most-self : (n : ℕ) (ls : List ClassedLine) → n ≤ most_conditionals n ls
most-self n [] = omega arith
most-self n (l ∷ ls) = omega arith

-- a line that opens one too many makes the lines too deep
opens-deep : (c : Context) (l : List ℕ) (ls : List (List ℕ)) → OpensTooDeep c l → TooDeep c (l ∷ ls)
opens-deep c l ls h =
    let k = class_of c l in
    let next = context_after c k in
    let opened : next.conditionals ≡ suc c.conditionals = ap (conditionals_after c.conditionals) h.0 in
    omega (arith, h.1, opened, most-self next.conditionals (classed next ls))

-- Some lines of a text are read, the first of them at a place, and the moves that put them in stand behind those that were there. The
-- others are left.
pub record AreReadTo (place : Found) (text : List ℕ) (old : MovesWithRoom) (before : ℕ) (at : ℕ) (end : LinesEnd) (rest : List ℕ) (patch : MovesWithRoom) (meter : ℕ) : Type 0 where
  pub moves : patch.moves ++ putting_moves at (lines_in end.context rest) ≡ old.moves ++ putting_moves place.at (lines_in place.context text)
  pub room : patch.room ≡ old.room
  pub space : length patch.moves + length (logical_lines rest) ≤ patch.room
  pub end_is : end_after_all end (lines_in end.context rest) ≡ end_after_all (end_before place.context) (lines_in place.context text)
  pub deep : AreTooDeepIn end.context rest → AreTooDeepIn place.context text
  pub shallow : (AreTooDeepIn end.context rest → ⊥) → AreTooDeepIn place.context text → ⊥
  pub few_open : end.context.conditionals ≤ max_conditionals
  pub fits : end.context.defines + length rest ≤ max_text
  pub few : at + length rest ≤ place.at + length text
  pub read : ℕ
  pub number : read + length (logical_lines rest) ≡ length (logical_lines text)
  pub counted : AreCounted before read meter
  pub few_read : meter ≤ before + read
  pub forward : before ≤ meter

-- no line is read
pub read-none : (place : Found) (text : List ℕ) (patch : MovesWithRoom) (meter : ℕ) → place.context.defines + length text ≤ max_text → length patch.moves + length (logical_lines text) ≤ patch.room → place.context.conditionals ≤ max_conditionals
    → AreReadTo place text patch meter place.at (end_before place.context) text patch meter
read-none place text patch meter fits space few_open = record {
  moves = refl;
  room = refl;
  space = space;
  end_is = refl;
  deep = λ h. h;
  shallow = λ h. h;
  few_open = few_open;
  fits = fits;
  few = omega arith;
  read = 0;
  number = omega arith;
  counted = ap (λ n. min n (2 ^ 64 - 1)) (let e : meter ≡ meter + 0 = omega arith in e);
  few_read = omega arith;
  forward = omega arith;
}

-- What is known of the line that is read next.
pub record IsReadNext (place : Found) (text : List ℕ) (old : MovesWithRoom) (before : ℕ) (at : ℕ) (end : LinesEnd) (bytes after : List ℕ) (patch : MovesWithRoom) (meter : ℕ) : Type 0 where
  pub one : logical_lines bytes ≡ bytes ∷ []
  pub defines : end.context.defines < max_text
  pub space : length patch.moves < patch.room
  pub few : at < place.at + length text
  -- a growth was refused, or the line opens a conditional too many
  pub deep : OpensTooDeep end.context bytes → AreTooDeepIn place.context text
  pub broken : (m : ℕ) → m ≤ meter + 1 → m ≤ before + length (logical_lines text)
  pub forward : before ≤ meter
  -- the line is read
  pub classed : (x : LocatedLine) → x ≡ located_line (line_in end.context bytes) → IsClassed x
  pub admits : (x : LocatedLine) → x ≡ located_line (line_in end.context bytes) → (class_of end.context bytes ≡ If → end.context.conditionals < max_conditionals) → Admits end.context x.class
  pub next : (x : LocatedLine) (e : LinesEnd) (p : MovesWithRoom) (m : ℕ) → x ≡ located_line (line_in end.context bytes) → e ≡ end_after end x → p ≡ record patch { moves = patch.moves ++ PutIn at x ∷ [] }
      → AreCounted meter 1 m → m ≤ meter + 1 → meter ≤ m → (class_of end.context bytes ≡ If → end.context.conditionals < max_conditionals) → AreReadTo place text old before (at + 1) e after p m

counted-one : (a n b m : ℕ) → AreCounted a n b → AreCounted b 1 m → AreCounted a (n + 1) m
counted-one a n b m h k = omega (arith, h, k)

pub read-next : (place : Found) (text : List ℕ) (old : MovesWithRoom) (before : ℕ) (at : ℕ) (end : LinesEnd) (rest bytes after : List ℕ) (patch : MovesWithRoom) (meter : ℕ)
    → logical_lines rest ≡ bytes ∷ logical_lines after → bytes ++ after ≡ rest → 0 < length bytes
    → AreReadTo place text old before at end rest patch meter → IsReadNext place text old before at end bytes after patch meter
read-next place text old before at end rest bytes after patch meter lines joined some R =
    let c = end.context in
    let k = class_of c bytes in
    let next = context_after c k in
    let x0 = located_line (line_in c bytes) in
    let n : length (logical_lines rest) ≡ suc (length (logical_lines after)) = ap length lines in
    let size : length rest ≡ length bytes + length after = ap length (sym joined) ∙ length-append bytes after in
    let shown : lines_in c rest ≡ x0 ∷ lines_in next after = ap (lines_below c) lines in
    let lower : most_conditionals c.conditionals (classed c (logical_lines rest)) ≡ max c.conditionals (most_conditionals next.conditionals (classed next (logical_lines after))) =
    ap (λ z. most_conditionals c.conditionals (classed c z)) lines in
    record {
      one = OneLine-logical bytes (among rest [] bytes (logical_lines after) lines).one;
      defines = omega (arith, R.fits, size, some);
      space = omega (arith, R.space, n);
      few = omega (arith, R.few, size, some);
      deep = λ h. R.deep (subst (TooDeep c) (sym lines) (opens-deep c bytes (logical_lines after) h));
      broken = λ m h. omega (arith, h, R.few_read, R.number, n);
      forward = R.forward;
      classed = λ x e. record { context = c; class_is = ap (λ (z : LocatedLine). z.class) e ∙ ap (λ (z : LocatedLine). located_class joined_byte (class_of c z.bytes)) (sym e) };
      admits = λ x e shallow. subst (λ (z : LocatedLine). Admits c z.class) (sym e) (class_of-admits c bytes shallow (omega (arith, R.fits, size, some)));
      next = λ x e p m is after_is put count few more fitting.
          let end_next : e ≡ end_after end x0 = after_is ∙ ap (end_after end) is in
          let moved : p ≡ record patch { moves = patch.moves ++ PutIn at x0 ∷ [] } = put ∙ ap (λ z. record patch { moves = patch.moves ++ PutIn at z ∷ [] }) is in
          let all : (patch.moves ++ PutIn at x0 ∷ []) ++ putting_moves (at + 1) (lines_in next after) ≡ patch.moves ++ putting_moves at (lines_in c rest) =
          append_assoc patch.moves (PutIn at x0 ∷ []) (putting_moves (at + 1) (lines_in next after)) ∙ ap (λ z. patch.moves ++ putting_moves at z) (sym shown) in
          let defines : next.defines ≤ c.defines + 1 = defines_after-few c.defines k in
          let admits : Admits c x0.class = class_of-admits c bytes fitting (omega (arith, R.fits, size, some)) in
          let open_next : next.conditionals ≤ max_conditionals = conditionals-few_after c (x0 ∷ []) 1 R.few_open (admits.0, tt) in
          let new : AreReadTo place text old before (at + 1) (end_after end x0) after (record patch { moves = patch.moves ++ PutIn at x0 ∷ [] }) m = record {
            moves = all ∙ R.moves;
            room = R.room;
            space = omega (arith, R.space, n, length-append patch.moves (PutIn at x0 ∷ []));
            end_is = sym (ap (end_after_all end) shown) ∙ R.end_is;
            deep = λ h. R.deep (omega (arith, h, lower));
            shallow = λ h. R.shallow (λ d. h (omega (arith, d, lower, R.few_open)));
            few_open = open_next;
            fits = omega (arith, R.fits, size, some, defines);
            few = omega (arith, R.few, size, some);
            read = R.read + 1;
            number = omega (arith, R.number, n);
            counted = counted-one before R.read meter m R.counted count;
            few_read = omega (arith, R.few_read, few);
            forward = omega (arith, R.forward, more);
          } in
          subst (λ (z : MovesWithRoom). AreReadTo place text old before (at + 1) e after z m) (sym moved)
          (subst (λ (z : LinesEnd). AreReadTo place text old before (at + 1) z after (record patch { moves = patch.moves ++ PutIn at x0 ∷ [] }) m) (sym end_next) new);
    }

-- all lines are read
pub record AreAllRead (place : Found) (text : List ℕ) (old : MovesWithRoom) (before : ℕ) (end : LinesEnd) (patch : MovesWithRoom) (meter : ℕ) : Type 0 where
  pub read : AreReadInto place text old patch end
  pub counted : AreCounted before (length (logical_lines text)) meter
  pub few_read : meter ≤ before + length (logical_lines text)
  pub forward : before ≤ meter

pub read-all : (place : Found) (text : List ℕ) (old : MovesWithRoom) (before : ℕ) (at : ℕ) (end : LinesEnd) (rest : List ℕ) (patch : MovesWithRoom) (meter : ℕ) → rest ≡ []
    → AreReadTo place text old before at end rest patch meter → AreAllRead place text old before end patch meter
read-all place text old before at end rest patch meter none R =
    let moves : patch.moves ≡ old.moves ++ putting_moves place.at (lines_in place.context text) =
    sym (append-nil patch.moves) ∙ (ap (λ z. patch.moves ++ putting_moves at (lines_in end.context z)) (sym none) ∙ R.moves) in
    let number : R.read ≡ length (logical_lines text) = omega (arith, R.number, ap (λ z. length (logical_lines z)) none) in
    record {
      read = record {
        moves = ap (λ z. record { moves = z; room = patch.room }) moves ∙ ap (λ z. record { moves = old.moves ++ putting_moves place.at (lines_in place.context text); room = z }) R.room;
        end_is = sym (ap (λ z. end_after_all end (lines_in end.context z)) none) ∙ R.end_is;
        shallow = R.shallow (λ d. omega (arith, d, R.few_open, ap (λ z. most_conditionals end.context.conditionals (classed end.context (logical_lines z))) none));
      };
      counted = subst (λ z. AreCounted before z meter) number R.counted;
      few_read = omega (arith, R.few_read, number);
      forward = R.forward;
    }

-- a refusal, with what makes the lines too deep
pub refused-deep : {A B P Q : Type 0} → A ⊎ (B × P) → (P → Q) → A ⊎ (B × Q)
refused-deep (inl a) f = inl a
refused-deep (inr (b, p)) f = inr (b, f p)

pub handed : {A : Type 0} (P : Refusal → Type 0) (r : Refusal) (result : Result A Refusal) → IsErrAnd result (λ q. q ≡ r) → P r → IfErr result P
handed P r (Ok x) i p = tt
handed P r (Err q) i p = subst P (sym i) p
