-- What a command has is read from its line and the lines below it.
use Rattle.std.proofs.Common.{◌≡◌, ◌≢◌, ℕ, suc, ◌-◌, ◌<◌, Bool, true, false, cond, List, [], ◌∷◌, ◌++◌, length, slice_index, refl, sym, ap, ◌∙◌, subst, arith, append-nil, map, codes, eqb-true}
use Rattle.std.specs.Prelude.{decimal, if◌then◌else◌, not, ◌==◌, ◌||◌, ◌&&◌, Some, None}
use Rattle.std.specs.List.{AllByRecursion, list_all, list_any}
use Rattle.std.specs.Str.{bytes_eq}
use Rattle.mk_lines.specs.Lists.{Each, concat}
use Rattle.mk_lines.specs.Bytes.{LineFeed, CarriageReturn, Backslash, Blank, Ordinary, is_blank_kind, is_blank_byte}
use Rattle.mk_lines.specs.Spacing.{each_after_space, spaced_words}
use Rattle.mk_lines.proofs.on_lists.BoolLemmas.{or-left_false, or-right_false}
use Rattle.mk_edit_language.specs.LineRuns.{block_lines}
use Rattle.mk_script.specs.CommandTable.{Content, Text, Number, Block, HaveContents}
use Rattle.mk_script.specs.Fields.{Field, Bare, text, EndsField, IsBare, IsWritten, HasFields, quoted, escaped}
use Rattle.mk_script.specs.Blocks.{AreBefore, block_text, end_word, is_word, is_word_byte, HasTextBy, HasBlockText}
use Rattle.mk_script.specs.Numbers.{number}
use Rattle.mk_script.specs.ScriptLaws.{CanBeWritten}
use Rattle.mk_script.specs.WrittenEdits.{content_text, field_in_line, free_word, has_line, has_line_feed, has_return, is_below, is_plain, is_quoted_byte, lines_below, written}
use Rattle.mk_script.specs.WrittenLines.{HasFreeWord}
use Rattle.mk_script.proofs.on_fields.BlockTexts.{block-feedless}
use Rattle.mk_script.proofs.on_fields.EndedLines.{none-at}
use Rattle.mk_script.proofs.on_fields.NumberLemmas.{decimal-number}
use Rattle.mk_script.proofs.on_scripts.WrittenLines.{block-had}
use Rattle.mk_script.proofs.on_written.WrittenFields.{as_field, no_mark, no_quoted, text-is, written-is}

-- ---- the word of a block

-- a byte that is none of a word is another one
byte-other : (b x : ℕ) → is_word_byte x ≡ false → is_word_byte b ≡ true → (b == x) ≡ false
byte-other b x none some = go (b == x) refl
  where
    go : (c : Bool) → (b == x) ≡ c → c ≡ false
    go true e = let same : is_word_byte b ≡ is_word_byte x = ap (λ (y : ℕ). is_word_byte y) (eqb-true b x e) in absurd (cc)
    go false e = refl

word-parts : (b : ℕ) (w : List ℕ) → list_all is_word_byte (b ∷ w) ≡ true → (is_word_byte b ≡ true) × (list_all is_word_byte w ≡ true)
word-parts b w h = go (is_word_byte b) refl h
  where
    go : (c : Bool) → is_word_byte b ≡ c → (c && list_all is_word_byte w) ≡ true → (is_word_byte b ≡ true) × (list_all is_word_byte w ≡ true)
    go true e k = (e, k)
    go false e k = absurd (cc)

word-bytes : (w : List ℕ) → is_word w ≡ true → list_all is_word_byte w ≡ true
word-bytes [] h = absurd (cc)
word-bytes (b ∷ w) h = h

word-none : (x : ℕ) (w : List ℕ) → is_word_byte x ≡ false → list_all is_word_byte w ≡ true → list_any (λ b. b == x) w ≡ false
word-none x [] none h = refl
word-none x (b ∷ w) none h =
    let parts = word-parts b w h in
    ap (λ q. q || list_any (λ b. b == x) w) (byte-other b x none parts.0) ∙ word-none x w none parts.1

not-blank : (b : ℕ) → is_word_byte b ≡ true → is_blank_byte b ≡ false
not-blank b h = go (b == 10) (b == 13) (b == 92) (b == 32) (b == 9) (byte-other b 32 refl h) (byte-other b 9 refl h)
  where
    go : (p q r s t : Bool) → s ≡ false → t ≡ false
        → is_blank_kind (if p then LineFeed else if q then CarriageReturn else if r then Backslash else if s then Blank else if t then Blank else Ordinary) ≡ false
    go true q r s t e f = refl
    go false true r s t e f = refl
    go false false true s t e f = refl
    go false false false true t e f = absurd (cc)
    go false false false false true e f = absurd (cc)
    go false false false false false e f = refl

word-unblank : (w : List ℕ) → list_all is_word_byte w ≡ true → Each (λ c. not (is_blank_byte c)) w
word-unblank [] h = tt
word-unblank (b ∷ w) h = let parts = word-parts b w h in (ap not (not-blank b parts.0), word-unblank w parts.1)

mark-is : (w : List ℕ) → is_word w ≡ true → end_word (Bare (codes "<<" ++ w)) ≡ Some w
mark-is w h = ap (λ c. cond c (Some w) None) h

-- ---- a field

-- a field as it is read from the line
abbrev pub field_read : Content → Field
field_read (Block lines) = cond (is_below lines) (Bare (codes "<<" ++ free_word lines)) (as_field (block_text lines))
field_read c = as_field (content_text c)

field-stands : (c : Content) → HasFreeWord c → IsWritten (field_in_line c) (field_read c)
field-stands (Text t) h = written-is t
field-stands (Number n) h = written-is (decimal n)
field-stands (Block lines) h = go (is_below lines) refl
  where
    go : (b : Bool) → is_below lines ≡ b
        → IsWritten (cond b (codes "<<" ++ free_word lines) (written (block_text lines))) (cond b (Bare (codes "<<" ++ free_word lines)) (as_field (block_text lines)))
    go true e = ((refl, (refl, (refl, word-unblank (free_word lines) (word-bytes (free_word lines) (h e).1)))), refl)
    go false e = written-is (block_text lines)

fields-end : (cs : List Content) → EndsField (each_after_space (map field_in_line cs))
fields-end [] = tt
fields-end (c ∷ cs) = refl

-- fields, each after a space
fields-stand : (cs : List Content) → AllByRecursion HasFreeWord cs → HasFields (each_after_space (map field_in_line cs)) (map field_read cs)
fields-stand [] h = tt
fields-stand (c ∷ cs) h = (
  each_after_space (map field_in_line cs),
  record {
    blanks = 32 ∷ [];
    written = field_in_line c;
    are_blanks = (refl, tt);
    is_written = field-stands c h.0;
    ends = fields-end cs;
    line_is = refl;
  },
  fields-stand cs h.1,
)

pub line-stands : (cs : List Content) → AllByRecursion HasFreeWord cs → HasFields (spaced_words (map field_in_line cs)) (map field_read cs)
line-stands [] h = tt
line-stands (c ∷ cs) h = (
  each_after_space (map field_in_line cs),
  record { blanks = []; written = field_in_line c; are_blanks = tt; is_written = field-stands c h.0; ends = fields-end cs; line_is = refl },
  fields-stand cs h.1,
)

-- ---- with the lines below

none-line : (w : List ℕ) (lines : List (List ℕ)) → has_line lines w ≡ false → Each (λ l. not (bytes_eq l w)) lines
none-line w [] h = tt
none-line w (l ∷ lines) h = (ap not (or-left_false (bytes_eq l w) (has_line lines w) h), none-line w lines (or-right_false (bytes_eq l w) (has_line lines w) h))

lines-before : (w : List ℕ) (lines : List (List ℕ)) → is_below lines ≡ true → has_line lines w ≡ false → AreBefore w lines
lines-before w [] some h = absurd (cc)
lines-before w (l ∷ lines) some h = none-line w (l ∷ lines) h

block-below : (lines : List (List ℕ)) → HasFreeWord (Block lines) → HasBlockText (field_read (Block lines)) (lines_below (Block lines)) (block_text lines)
block-below lines h = go (is_below lines) refl
  where
    go : (b : Bool) → is_below lines ≡ b → HasBlockText (cond b (Bare (codes "<<" ++ free_word lines)) (as_field (block_text lines))) (cond b (lines ++ free_word lines ∷ []) []) (block_text lines)
    go true e =
        subst (λ o. HasTextBy o (Bare (codes "<<" ++ free_word lines)) (lines ++ free_word lines ∷ []) (block_text lines)) (sym (mark-is (free_word lines) (h e).1))
        (lines, lines-before (free_word lines) lines e (h e).0, refl, refl)
    go false e = subst (λ o. HasTextBy o (as_field (block_text lines)) [] (block_text lines)) (sym (no_mark (block_text lines))) (refl, text-is (block_text lines))

pub contents-stand : (cs : List Content) → CanBeWritten cs → AllByRecursion HasFreeWord cs → HaveContents (map field_read cs) (concat (map lines_below cs)) cs
contents-stand [] can free = refl
contents-stand (Text t ∷ cs) can free = ([], concat (map lines_below cs), refl, (refl, text-is t), contents-stand cs can free.1)
contents-stand (Number n ∷ cs) can free = ([], concat (map lines_below cs), refl, (refl, ap number (text-is (decimal n)) ∙ decimal-number n can.0), contents-stand cs can.1 free.1)
contents-stand (Block lines ∷ cs) can free =
    (lines_below (Block lines), concat (map lines_below cs), refl, (block_text lines, block-below lines free.0, block-had lines can.0), contents-stand cs can.1 free.1)

-- ---- no line feed below

pub all-append : {X : Type 0} (P : X → Type 0) (xs ys : List X) → AllByRecursion P xs → AllByRecursion P ys → AllByRecursion P (xs ++ ys)
all-append P [] ys h k = k
all-append P (x ∷ xs) ys h k = (h.0, all-append P xs ys h.1 k)

lines-feedless : (lines : List (List ℕ)) → (t : List ℕ) × (block_lines t ≡ lines) → HasFreeWord (Block lines) → AllByRecursion (λ l. has_line_feed l ≡ false) (lines_below (Block lines))
lines-feedless lines can h = go (is_below lines) refl
  where
    go : (b : Bool) → is_below lines ≡ b → AllByRecursion (λ l. has_line_feed l ≡ false) (cond b (lines ++ free_word lines ∷ []) [])
    go true e =
        all-append (λ l. has_line_feed l ≡ false) lines (free_word lines ∷ []) (subst (λ ls. AllByRecursion (λ l. has_line_feed l ≡ false) ls) can.1 (block-feedless can.0))
        (word-none 10 (free_word lines) refl (word-bytes (free_word lines) (h e).1), tt)
    go false e = tt

pub below-feedless : (cs : List Content) → CanBeWritten cs → AllByRecursion HasFreeWord cs → AllByRecursion (λ l. has_line_feed l ≡ false) (concat (map lines_below cs))
below-feedless [] can free = tt
below-feedless (Text t ∷ cs) can free = below-feedless cs can free.1
below-feedless (Number n ∷ cs) can free = below-feedless cs can.1 free.1
below-feedless (Block lines ∷ cs) can free =
    all-append (λ l. has_line_feed l ≡ false) (lines_below (Block lines)) (concat (map lines_below cs)) (lines-feedless lines can.0 free.0) (below-feedless cs can.1 free.1)

-- ---- the end of the line

-- a text that is not empty, and does not end in a carriage return
pub record EndsWell (t : List ℕ) : Type 0 where
  pub some : 0 < length t
  pub last : slice_index t (length t - 1) ≢ 13

append-ends : (y x : List ℕ) → EndsWell x → EndsWell (y ++ x)
append-ends [] x h = h
append-ends (b ∷ y) x h =
    let k = append-ends y x h in
    let some = k.some in
    let at : length (b ∷ (y ++ x)) - 1 ≡ suc (length (y ++ x) - 1) = omega (arith, some) in
    record { some = omega arith; last = subst (λ (i : ℕ). slice_index (b ∷ (y ++ x)) i ≢ 13) (sym at) k.last }

returnless-ends : (b : ℕ) (t : List ℕ) → has_return (b ∷ t) ≡ false → EndsWell (b ∷ t)
returnless-ends b t h = record { some = omega arith; last = none-at 13 (b ∷ t) (length (b ∷ t) - 1) h (omega arith) }

plain-returnless : (t : List ℕ) → list_any is_quoted_byte t ≡ false → has_return t ≡ false
plain-returnless [] h = refl
plain-returnless (b ∷ t) h =
    let here = or-left_false (is_quoted_byte b) (list_any is_quoted_byte t) h in
    ap (λ q. q || has_return t) (or-left_false (b == 13) (b == 34) (or-right_false (is_blank_byte b) (b == 13 || b == 34) here))
    ∙ plain-returnless t (or-right_false (is_quoted_byte b) (list_any is_quoted_byte t) h)

written-ends : (t : List ℕ) → EndsWell (written t)
written-ends t = go t (is_plain t) refl
  where
    go : (t : List ℕ) (c : Bool) → is_plain t ≡ c → EndsWell (cond c t (quoted t))
    go [] true e = absurd (cc)
    go (b ∷ t) true e = returnless-ends b t (plain-returnless (b ∷ t) (no_quoted (b ∷ t) e))
    go t false e = append-ends (34 ∷ escaped t) (34 ∷ []) (returnless-ends 34 [] refl)

mark-ends : (w : List ℕ) → is_word w ≡ true → EndsWell (codes "<<" ++ w)
mark-ends w h = returnless-ends 60 (60 ∷ w) (word-none 13 w refl (word-bytes w h))

field-ends : (c : Content) → HasFreeWord c → EndsWell (field_in_line c)
field-ends (Text t) h = written-ends t
field-ends (Number n) h = written-ends (decimal n)
field-ends (Block lines) h = go (is_below lines) refl
  where
    go : (b : Bool) → is_below lines ≡ b → EndsWell (cond b (codes "<<" ++ free_word lines) (written (block_text lines)))
    go true e = mark-ends (free_word lines) (h e).1
    go false e = written-ends (block_text lines)

more-ends : (w : List ℕ) (cs : List Content) → EndsWell w → AllByRecursion HasFreeWord cs → EndsWell (w ++ each_after_space (map field_in_line cs))
more-ends w [] h free = subst EndsWell (sym (append-nil w)) h
more-ends w (c ∷ cs) h free =
    append-ends w (codes " " ++ (field_in_line c ++ each_after_space (map field_in_line cs)))
    (append-ends (codes " ") (field_in_line c ++ each_after_space (map field_in_line cs)) (more-ends (field_in_line c) cs (field-ends c free.0) free.1))

pub line-ends : (c : Content) (cs : List Content) → AllByRecursion HasFreeWord (c ∷ cs) → EndsWell (spaced_words (map field_in_line (c ∷ cs)))
line-ends c cs free = more-ends (field_in_line c) cs (field-ends c free.0) free.1
