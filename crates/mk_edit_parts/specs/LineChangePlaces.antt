-- The places of an assignment's line that a change replaces, by the ranges of the line's joined text,
-- if the change is checked by reading; and what is noted of them.
-- Told in docs/ARCHITECTURE.md, "An edit's way, from Edit to moved lines".
use Rattle.std.specs.Prelude.{◌≡◌, ℕ, ◌+◌, ◌-◌, ◌<◌, ◌≤◌, ◌^◌, if◌then◌else◌, List, [], ◌∷◌, ◌++◌, map, drop, length, Option, Some, None, IfSome}
use Rattle.std.specs.Option.{option_or}
use Rattle.std.specs.Str.{bytes_eq}
use Rattle.memchr.specs.Find.{matches}
use Rattle.mk_lines.specs.Lists.{after_leading}
use Rattle.mk_lines.specs.Bytes.{is_blank_byte}
use Rattle.mk_lines.specs.Cells.{Cell}
use Rattle.mk_lines.specs.Ranges.{raw_range, text_at, word_ranges}
use Rattle.mk_lines.specs.declared.split.Span.{Span}
use Rattle.mk_class.specs.Assignments.{operator_length}
use Rattle.mk_class.specs.ListTests.{is_empty}
use Rattle.mk_class.specs.OperatorTexts.{operator_text}
use Rattle.mk_class.specs.declared.assignment.Assignment as assignment
use Rattle.mk_edit_language.specs.Edits.{LineChange, Prepend, ReplaceWord, InsertWord, Substitute, SetOperator}
use Rattle.mk_edit_language.specs.declared.edit.Side.{Side}
use Rattle.mk_edit_language.specs.declared.edit.Side.TheVariants.{Before, After}
use Rattle.mk_edit_parts.specs.RenamedRanges.{span, bytes_in, AreWithin}
use Rattle.mk_edit_parts.specs.WordCuts.{raw_between}
use Rattle.mk_edit_parts.specs.declared.line_change.LineRewrite.{LineRewrite}
use Rattle.mk_edit_parts.specs.declared.line_change.LineRewrite.TheVariants as rewrite
use Rattle.mk_edit_parts.specs.declared.line_change.Places.{Places}

-- a change of a line; its texts are seen as bytes
abbrev pub rewrite_view : LineRewrite → LineChange
rewrite_view (rewrite.Prepend value) = Prepend value.now
rewrite_view (rewrite.ReplaceWord word value) = ReplaceWord word.now value.now
rewrite_view (rewrite.InsertWord side word new) = InsertWord side word.now new.now
rewrite_view (rewrite.Substitute from to) = Substitute from.now to.now
rewrite_view (rewrite.SetOperator flavor) = SetOperator flavor

-- the text that goes to each place; the separator is what stands between words
abbrev pub new_text : LineChange → (separator value : List ℕ) → List ℕ
new_text (Prepend v) s t = v ++ (if is_empty t then [] else 32 ∷ [])
new_text (ReplaceWord w v) s t = v
new_text (InsertWord Before w n) s t = n ++ s
new_text (InsertWord After w n) s t = s ++ n
new_text (Substitute f v) s t = v
new_text (SetOperator o) s t = operator_text o

-- the range of a word, or the empty range on one side of it
abbrev pub word_place : (side : Option Side) → Span → Span
word_place None s = s
word_place (Some Before) s = span s.start s.start
word_place (Some After) s = span s.end s.end

-- the places at the words of a part that are this word; the part begins at this offset of the text
abbrev pub word_places : (text : List ℕ) → (start : ℕ) → (side : Option Side) → (word : List ℕ)
    → List Span → List Span
word_places t at i w [] = []
word_places t at i w (s ∷ ss) =
    if bytes_eq (text_at t (span (at + s.start) (at + s.end))) w
    then word_place i (span (at + s.start) (at + s.end)) ∷ word_places t at i w ss
    else word_places t at i w ss

-- the range between the end of the word before, if there is one, and an offset
abbrev pub gap_before : (word_end : Option ℕ) → ℕ → Option Span
gap_before None n = None
gap_before (Some e) n = Some (span e n)

-- the range between an offset and the word after it, if there is one; the part begins at this offset
abbrev pub gap_after : (start : ℕ) → ℕ → List Span → Option Span
gap_after at n [] = None
gap_after at n (s ∷ ss) = Some (span n (at + s.start))

-- the range on this side of a word, or if there is none, the one on the other side
abbrev pub gap_beside : Side → (before after : Option Span) → Option Span
gap_beside Before b a = option_or b a
gap_beside After b a = option_or a b

-- The range that separates the first word of a part that is this one from its neighbour on a side,
-- or if it has none there, on the other side. `word_end` is where the word before these ends.
abbrev pub separator_among : Side → (text : List ℕ) → (start : ℕ) → (word : List ℕ)
    → (word_end : Option ℕ) → List Span → Option Span
separator_among i t at w e [] = None
separator_among i t at w e (s ∷ ss) =
    if bytes_eq (text_at t (span (at + s.start) (at + s.end))) w
    then gap_beside i (gap_before e (at + s.start)) (gap_after at (at + s.end) ss)
    else separator_among i t at w (Some (at + s.end)) ss

-- the range that separates a new word from the one beside which a change puts it
abbrev pub separator_place : LineChange → (text : List ℕ) → assignment.Assignment → Option Span
separator_place (InsertWord i w n) t at =
    separator_among i t at.value.start w None (word_ranges (text_at t at.value))
separator_place c t at = None

-- the bytes of a separator, as they are read, and as they stand in the line; without a range, a space
abbrev pub separator_text : (text : List ℕ) → Option Span → List ℕ
separator_text t None = 32 ∷ []
separator_text t (Some s) = text_at t s

abbrev pub separator_bytes : List Cell → Option Span → List ℕ
separator_bytes cs None = 32 ∷ []
separator_bytes cs (Some s) = raw_between cs s.start s.end

-- the ranges of texts of this length that begin at these offsets of a part
abbrev pub text_places : (start length : ℕ) → List ℕ → List Span
text_places at n [] = []
text_places at n (i ∷ is) = span (at + i) (at + i + n) ∷ text_places at n is

-- where the operator begins: after the blanks behind the name, which ends at this offset
abbrev pub operator_start : (text : List ℕ) → (name_end : ℕ) → ℕ
operator_start t e = length t - length (after_leading is_blank_byte (drop e t))

-- the ranges that a change replaces in the text of an assignment's line
abbrev pub change_places : LineChange → (text : List ℕ) → assignment.Assignment → List Span
change_places (Prepend v) t at = span at.value.start at.value.start ∷ []
change_places (ReplaceWord w v) t at =
    word_places t at.value.start None w (word_ranges (text_at t at.value))
change_places (InsertWord i w n) t at =
    word_places t at.value.start (Some i) w (word_ranges (text_at t at.value))
change_places (Substitute f v) t at =
    text_places at.value.start (length f) (matches (text_at t at.value) f 0)
change_places (SetOperator o) t at =
    let start = operator_start t at.name.end in
    span start (start + operator_length at.flavor) ∷ []

-- the raw ranges of ranges of the joined text
abbrev pub raw_ranges : List Cell → List Span → List Span
raw_ranges cs ss = map (λ s. raw_range cs s.start s.end) ss

-- What is noted of all places but those ahead: how many there are, how many raw bytes they have, and,
-- if there was memory for them, their ranges.
pub record AreNoted {A : _} (cs : List Cell) (all ahead : List Span) (places : Places A)
    : Type 0 where
  pub count : places.count + length ahead ≡ length all
  pub bytes : places.bytes + bytes_in (raw_ranges cs ahead) ≡ bytes_in (raw_ranges cs all)
  pub ranges : IfSome places.ranges (λ ranges. ranges.items ++ ahead ≡ all)

-- The places of a change in a line of this text can be noted: they stand within the text, and their
-- numbers are small.
pub record CanNote (cs : List Cell) (places : List Span) : Type 0 where
  pub within : AreWithin (length cs) places
  pub few : length places < 2 ^ 32
  pub few_bytes : bytes_in (raw_ranges cs places) ≤ 2 ^ 32
