-- The bytes of an assignment's line without a word of its value, by the offsets of its parts.
use Rattle.std.proofs.Common.{◌≡◌, refl, sym, ap, ◌∙◌, arith, ℕ, ◌+◌, List, [], ◌∷◌, ◌++◌, length-append, drop, append_assoc, Bool, true, false, not, if◌then◌else◌}
use Rattle.std.proofs.lemmas.List.{append-nil}
use Rattle.mk_lines.specs.Lists.{concat}
use Rattle.mk_lines.specs.Cells.{Cell, raw_text, line_cells}
use Rattle.mk_lines.specs.Pieces.{Keep, Replace, new_bytes}
use Rattle.mk_lines.proofs.on_lists.PieceLemmas.{new_bytes-append}
use Rattle.mk_class.specs.ListTests.{is_empty}
use Rattle.mk_class.specs.Assignments.{Assignment, before_value}
use Rattle.mk_class.specs.LocatedClasses.{width}
use Rattle.mk_class.specs.declared.assignment.Assignment as assignment
use Rattle.mk_class.proofs.on_classes.PartOffsetLemmas.{width-append}
use Rattle.mk_tree.specs.LocatedLines.{LocatedLine, text_of_line}
use Rattle.mk_lines.specs.Ranges.{text_at, word_ranges}
use Rattle.mk_edit_language.specs.ValueChanges.{led_words, staying, remove_word_pieces}
use Rattle.mk_edit_parts.specs.SeenAssignments.{IsAssignmentSeen}
use Rattle.mk_edit_parts.specs.ValuePieces.{value_without_pieces, line_without_pieces}
use Rattle.mk_edit_parts.specs.WordCuts.{raw_between, staying_words, some_stays}
use Rattle.mk_edit_parts.proofs.on_prerequisites.HeaderBytes.{raw-front, raw-back}
use Rattle.mk_edit_parts.proofs.on_values.StayingWords.{part-staying, none-stays}

-- the offsets of the parts of an assignment's line
record HasOffsets (at : assignment.Assignment) (a : Assignment Cell) : Type 0 where
  start_is : at.value.start ≡ width (before_value a)
  end_is : at.value.end ≡ width (before_value a) + width a.value
  blanks_end_is : at.end ≡ (width (before_value a) + width a.value) + width a.after

offsets-of : (l : LocatedLine) (at : assignment.Assignment) (a : Assignment Cell) (r : List Cell) → IsAssignmentSeen l at a r → HasOffsets at a
offsets-of l at a r S =
    let p = S.offsets_are in
    let start = ap (λ (z : assignment.Assignment). z.value.start) p in
    let end = ap (λ (z : assignment.Assignment). z.value.end) p in
    let blanks = ap (λ (z : assignment.Assignment). z.end) p in
    let b : width (before_value a) ≡ width a.before + (width a.name + width a.operator) = omega (arith, width-append a.before (a.name ++ a.operator), width-append a.name a.operator) in
    record { start_is = omega (arith, start, b); end_is = omega (arith, end, b); blanks_end_is = omega (arith, blanks, b) }

-- what follows the words that stay: the blanks after the value, and the rest of the line; if no word stays, the rest alone
after-words : (b : Bool) (w : List ℕ) (a : Assignment Cell) (r : List Cell) (R S : List ℕ) → is_empty (staying w (led_words a.value)) ≡ b → R ≡ raw_text (concat a.after ++ r) → S ≡ raw_text r
    → new_bytes (remove_word_pieces w (led_words a.value)) ++ (if not b then R else S)
    ≡ new_bytes (if b then Replace (concat (a.value ++ a.after)) [] ∷ Keep r ∷ [] else remove_word_pieces w (led_words a.value) ++ Keep (concat a.after ++ r) ∷ [])
after-words true w a r R S h k i = ap (λ z. z ++ S) (none-stays w (led_words a.value) h) ∙ (i ∙ sym (append-nil (raw_text r)))
after-words false w a r R S h k i =
    let ps = remove_word_pieces w (led_words a.value) in
    ap (λ z. new_bytes ps ++ z) (k ∙ sym (append-nil (raw_text (concat a.after ++ r)))) ∙ sym (new_bytes-append ps (Keep (concat a.after ++ r) ∷ []))

-- the bytes of the words of the value that stay, and whether there are any
abbrev pub value_staying : LocatedLine → assignment.Assignment → (word : List ℕ) → List ℕ
value_staying l at w = staying_words (line_cells l.bytes) at.value.start (text_at (text_of_line l) at.value) w false at.value.start (word_ranges (text_at (text_of_line l) at.value))

abbrev pub value_stays : LocatedLine → assignment.Assignment → (word : List ℕ) → Bool
value_stays l at w = some_stays (text_at (text_of_line l) at.value) w false (word_ranges (text_at (text_of_line l) at.value))

rest-of : (c : Bool) (m n : ℕ) (cs : List Cell) → raw_text (drop (if c then m else n) cs) ≡ (if c then raw_text (drop m cs) else raw_text (drop n cs))
rest-of true m n cs = refl
rest-of false m n cs = refl

-- the bytes that the code puts one after the other are those of the line without the word
pub assignment-without : (l : LocatedLine) (at : assignment.Assignment) (a : Assignment Cell) (r : List Cell) (w E : List ℕ) → IsAssignmentSeen l at a r
    → raw_between (line_cells l.bytes) 0 at.value.start
    ++ (value_staying l at w
    ++ (raw_text (drop (if value_stays l at w then at.value.end else at.end) (line_cells l.bytes)) ++ E))
    ≡ new_bytes (line_without_pieces w a r) ++ E
assignment-without l at a r w E S =
    let cs = line_cells l.bytes in
    let O = offsets-of l at a r S in
    let B = concat (before_value a) in
    let V = concat a.value in
    let G = concat a.after in
    let ends = is_empty (staying w (led_words a.value)) in
    let k1 : cs ≡ B ++ (V ++ (G ++ r)) = S.cells_are in
    let k2 : cs ≡ (B ++ V) ++ (G ++ r) = S.cells_are ∙ simp append_assoc in
    let k3 : cs ≡ ((B ++ V) ++ G) ++ r = S.cells_are ∙ simp append_assoc in
    let T = part-staying cs w at.value.start at.value.end _ a.value B (G ++ r) S.located.value k1 O.start_is O.end_is in
    let front : raw_between cs 0 at.value.start ≡ raw_text B = raw-front cs B (V ++ (G ++ r)) at.value.start k1 O.start_is in
    let back : raw_text (drop at.value.end cs) ≡ raw_text (G ++ r) = raw-back cs (B ++ V) (G ++ r) at.value.end k2 (omega (arith, O.end_is, length-append B V)) in
    let last : raw_text (drop at.end cs) ≡ raw_text r = raw-back cs ((B ++ V) ++ G) r at.end k3 (omega (arith, O.blanks_end_is, length-append (B ++ V) G, length-append B V)) in
    let rest : raw_text (drop (if value_stays l at w then at.value.end else at.end) cs) ≡ (if not ends then raw_text (drop at.value.end cs) else raw_text (drop at.end cs)) =
    rest-of (value_stays l at w) at.value.end at.end cs ∙ ap (λ b. if b then raw_text (drop at.value.end cs) else raw_text (drop at.end cs)) T.stays_is in
    let words : value_staying l at w ++ raw_text (drop (if value_stays l at w then at.value.end else at.end) cs) ≡ new_bytes (value_without_pieces w a r) =
    ap (λ z. z ++ raw_text (drop (if value_stays l at w then at.value.end else at.end) cs)) T.bytes_are
    ∙ (ap (λ z. new_bytes (remove_word_pieces w (led_words a.value)) ++ z) rest ∙ after-words ends w a r (raw_text (drop at.value.end cs)) (raw_text (drop at.end cs)) refl back last) in
    ap (λ z. z ++ (value_staying l at w ++ (raw_text (drop (if value_stays l at w then at.value.end else at.end) cs) ++ E))) front
    ∙ (ap (λ z. raw_text B ++ z) (sym (append_assoc (value_staying l at w) _ E) ∙ ap (λ z. z ++ E) words) ∙ sym (append_assoc (raw_text B) (new_bytes (value_without_pieces w a r)) E))

pub three-joined : (x0 x1 x2 x3 a b c A B C : List ℕ) → x0 ≡ [] → x1 ≡ x0 ++ a → x2 ≡ x1 ++ b → x3 ≡ x2 ++ c → a ≡ A → b ≡ B → c ≡ C → x3 ≡ A ++ (B ++ C)
three-joined x0 x1 x2 x3 a b c A B C i j k m n o p = rw (m, k, j, i, n, o, p) (simp append_assoc)
