-- Where a new prerequisite goes into the joined text of a rule's line, and what is written before
-- and after it.
-- Told in docs/EDITS.md, "depend TARGET WORD, depend-order TARGET WORD".
use Rattle.std.specs.Prelude.{ℕ, ◌+◌, ◌==◌, ◌&&◌, if◌then◌else◌, Bool, not, List, [], ◌∷◌, ◌++◌, codes}
use Rattle.mk_lines.specs.Ranges.{text_at, word_ranges}
use Rattle.mk_lines.specs.declared.split.Span.{Span}
use Rattle.mk_class.specs.declared.rule.Header as header
use Rattle.mk_class.specs.LineParts.{normal_span, order_only_span}
use Rattle.mk_edit_parts.specs.WordCuts.{last_end}

-- where the last word of a part of a text ends; the start of the part if it has no word
abbrev pub words_end : (text : List ℕ) → Span → ℕ
words_end t s = s.start + last_end 0 (word_ranges (text_at t s))

-- whether a new order-only prerequisite gets a `|` of its own
abbrev brings_bar : (order : Bool) → header.Header → Bool
brings_bar order at = order && not at.has_order_only

-- the part in which a new prerequisite goes last
abbrev pub part_of_new : (order : Bool) → header.Header → Span
part_of_new order at = if order && at.has_order_only then order_only_span at else normal_span at

abbrev pub offset_of_new : (order : Bool) → (text : List ℕ) → header.Header → ℕ
offset_of_new order t at = words_end t (part_of_new order at)

-- what is written before a new prerequisite: a space, or a `|` between two spaces
abbrev pub before_new : (order : Bool) → header.Header → List ℕ
before_new order at = if brings_bar order at then codes " | " else 32 ∷ []

-- what is written after a new prerequisite that goes to this offset: a space if a `|` follows a
-- normal prerequisite directly, and otherwise nothing
abbrev pub after_new : (order : Bool) → (offset : ℕ) → header.Header → List ℕ
after_new order offset at =
    if not order && (at.has_order_only && (offset == at.normal_end)) then 32 ∷ [] else []

-- the bytes that are written: the new prerequisite, with what stands before and after it
abbrev pub new_word_text : (order : Bool) → (offset : ℕ) → (word : List ℕ) → header.Header → List ℕ
new_word_text order offset w at = before_new order at ++ (w ++ after_new order offset at)
