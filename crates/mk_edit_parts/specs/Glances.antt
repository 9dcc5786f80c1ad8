-- Where a word of some parts of a text may stand, as a glance at the text sees it.
-- Told in docs/ARCHITECTURE.md, "An edit's way, from Edit to moved lines".
use Rattle.std.specs.Prelude.{◌≡◌, ℕ, ◌+◌, ◌<◌, ◌≤◌, ◌⊎◌, true, List, ◌++◌, length, drop, Option, Some, None}
use Rattle.memchr.specs.Find.{Passes, is_byte2}
use Rattle.mk_lines.specs.Bytes.{is_blank_byte}
use Rattle.mk_lines.specs.declared.split.Span.{Span}
use Rattle.mk_class.specs.ListTests.{first_passes}
use Rattle.mk_edit_parts.specs.declared.word_parts.WordParts.{WordParts}

-- one of the parts ends at an offset
abbrev pub EndsPart : WordParts → (end : ℕ) → Type 0
EndsPart p end = (end ≡ p.targets.end) ⊎ ((end ≡ p.normal.end) ⊎ (end ≡ p.order_only.end))

-- the bytes of a word stand at an offset of a text, and behind them a part ends or a blank stands
pub record StandsAt (text word : List ℕ) (parts : WordParts) (at : ℕ) : Type 0 where
  pub after : List ℕ
  pub bytes : drop at text ≡ word ++ after
  pub ends : EndsPart parts (at + length word) ⊎ (first_passes is_blank_byte after ≡ true)

-- the word stands so behind no blank of a range
abbrev pub StandsBehindNone : (text word : List ℕ) → WordParts → Span → Type 0
StandsBehindNone text word parts range =
    (k : ℕ) → range.start ≤ k → k < range.end → Passes (is_byte2 32 9) text k
    → StandsAt text word parts (k + 1) → ⊥

-- A part that ends at this offset is passed before the first place where a word may stand. Each part
-- is, if there is no such place.
abbrev pub IsPassed : (place : Option ℕ) → (end : ℕ) → Type 0
IsPassed None e = Unit {0}
IsPassed (Some at) e = e ≤ at
