-- Comments that say an assignment: the text behind a modifier says what the text says.
use Rattle.std.proofs.Common.{◌≡◌, refl, sym, ap, ◌∙◌, arith, ℕ, zero, suc, ◌-◌, ◌<◌, ◌≤◌, ◌+◌, List, [], ◌∷◌, ◌++◌, append_assoc, Bool, true, false, not, ◌&&◌, ◌||◌, take, drop, length, length-append}
use Rattle.std.proofs.lemmas.Bool.{and_parts}
use Rattle.std.proofs.Math.Seq.{take-append_seam, drop-append_seam}
use Rattle.mk_lines.specs.Bytes.{is_blank_byte}
use Rattle.mk_lines.specs.Lists.{leading, after_leading}
use Rattle.mk_lines.proofs.on_lists.ListLemmas.{leading-after_leading}
use Rattle.mk_class.specs.Keywords.{modifier_words}
use Rattle.mk_class.specs.ListTests.{is_empty}
use Rattle.mk_class.specs.Texts.{is_one_of}
use Rattle.mk_edit_language.specs.Comments.{begins_assignment, begins_modifier, blanks_after, comment_mark, first_word, says_assignment, word_length}

-- ---- what a text says

-- bytes that are passed are those that are dropped
says-dropped : (n : List ℕ) (p : ℕ) (t : List ℕ) → says_assignment n p t ≡ says_assignment n 0 (drop p t)
says-dropped n zero [] = refl
says-dropped n zero (b ∷ t) = refl
says-dropped n (suc p) [] = refl
says-dropped n (suc p) (b ∷ t) = says-dropped n p t

-- nothing begins with an operator where there is nothing
begins-nothing : (n : List ℕ) → begins_assignment n [] ≡ false
begins-nothing [] = refl
begins-nothing (x ∷ n) = refl

-- a text that begins with the assignment says it
pub says-begun : (n t : List ℕ) → begins_assignment n t ≡ true → says_assignment n 0 t ≡ true
says-begun n [] h = absurd (let e : false ≡ true = sym (begins-nothing n) ∙ h in cc)
says-begun n (b ∷ t) h = ap (λ x. x || (begins_modifier (b ∷ t) && says_assignment n (word_length (b ∷ t) - 1) t)) h

-- one that begins neither with it nor with a modifier does not
pub says-nothing : (n t : List ℕ) → begins_assignment n t ≡ false → begins_modifier t ≡ false → says_assignment n 0 t ≡ false
says-nothing n [] h k = refl
says-nothing n (b ∷ t) h k =
    ap (λ x. x || (begins_modifier (b ∷ t) && says_assignment n (word_length (b ∷ t) - 1) t)) h ∙ ap (λ x. x && says_assignment n (word_length (b ∷ t) - 1) t) k

not_empty-length : (xs ys : List ℕ) → not (is_empty ys) ≡ true → 0 < length (xs ++ ys)
not_empty-length xs [] h = absurd (cc)
not_empty-length xs (y ∷ ys) h = omega (arith, length-append xs (y ∷ ys))

-- one that begins with a modifier says what stands behind it
pub says-behind : (n t : List ℕ) → begins_assignment n t ≡ false → begins_modifier t ≡ true → says_assignment n 0 t ≡ says_assignment n 0 (drop (word_length t) t)
says-behind n [] h k = absurd (cc)
says-behind n (b ∷ t) h k =
    let w = word_length (b ∷ t) in
    let some : 0 < w = not_empty-length (first_word (b ∷ t)) (blanks_after (b ∷ t)) (and_parts (is_one_of (first_word (b ∷ t)) modifier_words) _ k).1 in
    let next : w ≡ suc (w - 1) = omega (arith, some) in
    ap (λ x. x || (begins_modifier (b ∷ t) && says_assignment n (w - 1) t)) h
    ∙ (ap (λ x. x && says_assignment n (w - 1) t) k ∙ (says-dropped n (w - 1) t ∙ ap (λ k. says_assignment n 0 (drop k (b ∷ t))) (sym next)))

-- ---- the front of a text

-- the first word, the blanks after it, and what follows
front-parts : (t : List ℕ) → t ≡ (first_word t ++ blanks_after t) ++ after_leading is_blank_byte (after_leading (λ b. not (is_blank_byte b)) t)
front-parts t =
    let R = after_leading (λ b. not (is_blank_byte b)) t in
    sym (leading-after_leading (λ b. not (is_blank_byte b)) t)
    ∙ (ap (λ z. first_word t ++ z) (sym (leading-after_leading is_blank_byte R)) ∙ sym (append_assoc (first_word t) (blanks_after t) (after_leading is_blank_byte R)))

pub behind-word : (t rest : List ℕ) → rest ≡ after_leading is_blank_byte (after_leading (λ b. not (is_blank_byte b)) t) → rest ≡ drop (word_length t) t
behind-word t rest h = h ∙ (sym (drop-append_seam (first_word t ++ blanks_after t) _) ∙ ap (drop (word_length t)) (sym (front-parts t)))

-- the word is what stands before the rest
pub word-before : (t behind : List ℕ) (k : ℕ) → behind ≡ after_leading (λ b. not (is_blank_byte b)) t → k ≡ length t - length behind → take k t ≡ first_word t
word-before t behind k h e =
    let R = after_leading (λ b. not (is_blank_byte b)) t in
    let whole : first_word t ++ R ≡ t = leading-after_leading (λ b. not (is_blank_byte b)) t in
    let n : k ≡ length (first_word t) = omega (arith, e, ap length h, ap length whole, length-append (first_word t) R) in
    ap (λ m. take m t) n ∙ (ap (take (length (first_word t))) (sym whole) ∙ take-append_seam (first_word t) R)

-- there are blanks after the word where they are passed
pub blanks-passed : (t behind rest : List ℕ) → behind ≡ after_leading (λ b. not (is_blank_byte b)) t → rest ≡ after_leading is_blank_byte behind → length rest < length behind → not (is_empty (blanks_after t)) ≡ true
blanks-passed t behind rest h k less = some (blanks_after t) (omega (arith, less, ap length whole, length-append (blanks_after t) rest))
  where
    whole : blanks_after t ++ rest ≡ behind
    whole = ap (λ z. blanks_after t ++ z) (k ∙ ap (after_leading is_blank_byte) h) ∙ (leading-after_leading is_blank_byte (after_leading (λ b. not (is_blank_byte b)) t) ∙ sym h)

    some : (xs : List ℕ) → 0 < length xs → not (is_empty xs) ≡ true
    some [] n = absurd (omega (arith, n))
    some (x ∷ xs) n = refl

pub no_blanks-passed : (t behind rest : List ℕ) → behind ≡ after_leading (λ b. not (is_blank_byte b)) t → rest ≡ after_leading is_blank_byte behind → length behind ≤ length rest → begins_modifier t ≡ false
no_blanks-passed t behind rest h k more = none (is_one_of (first_word t) modifier_words) (blanks_after t) (omega (arith, more, ap length whole, length-append (blanks_after t) rest))
  where
    whole : blanks_after t ++ rest ≡ behind
    whole = ap (λ z. blanks_after t ++ z) (k ∙ ap (after_leading is_blank_byte) h) ∙ (leading-after_leading is_blank_byte (after_leading (λ b. not (is_blank_byte b)) t) ∙ sym h)

    none : (b : Bool) (xs : List ℕ) → length xs ≤ 0 → (b && not (is_empty xs)) ≡ false
    none true [] n = refl
    none false [] n = refl
    none b (x ∷ xs) n = absurd (omega (arith, n))

-- ---- the mark

pub mark-start : (l text : List ℕ) (k : ℕ) → text ≡ after_leading is_blank_byte l → k ≡ length l - length text → k ≡ length (leading is_blank_byte l)
mark-start l text k h e = omega (arith, e, ap length h, ap length (leading-after_leading is_blank_byte l), length-append (leading is_blank_byte l) (after_leading is_blank_byte l))

pub mark-end : (l text rest : List ℕ) (j k : ℕ) → text ≡ after_leading is_blank_byte l → rest ≡ after_leading is_blank_byte (drop 1 text) → j ≡ length l - length text → k ≡ length l - length rest → k ≡ j + length (comment_mark l)
mark-end l text rest j k h r e f =
    let m = mark (after_leading is_blank_byte l) in
    let s : length rest ≡ length (after_leading is_blank_byte (drop 1 (after_leading is_blank_byte l))) = ap length (r ∙ ap (λ z. after_leading is_blank_byte (drop 1 z)) h) in
    omega (arith, e, f, whole, m, s, ap length h)
  where
    whole : length l ≡ length (leading is_blank_byte l) + length (after_leading is_blank_byte l)
    whole = ap length (sym (leading-after_leading is_blank_byte l)) ∙ length-append (leading is_blank_byte l) (after_leading is_blank_byte l)

    mark : (R : List ℕ) → length (take 1 R ++ leading is_blank_byte (drop 1 R)) + length (after_leading is_blank_byte (drop 1 R)) ≡ length R
    mark [] = refl
    mark (b ∷ R) = omega (arith, ap length (leading-after_leading is_blank_byte R), length-append (leading is_blank_byte R) (after_leading is_blank_byte R))
