-- The parts of a head as the code has them: as parts of the head's text.
-- Told in docs/LANGUAGE.md, chapters 3 and 5.
use Rattle.std.specs.Prelude.{◌≡◌, ℕ, ◌+◌, if◌then◌else◌, Bool, true, false, ◌||◌, List, [], ◌∷◌, length}
use Rattle.mk_lines.specs.Lists.{after_leading}
use Rattle.mk_lines.specs.Units.{units}
use Rattle.mk_class.specs.Marks.{Cover}
use Rattle.mk_class.specs.declared.marks.Marks.{Marks}
use Rattle.mk_class.specs.Scans.{IsSplitAt, is_other}
use Rattle.mk_class.specs.Separators.{separated}
use Rattle.mk_class.specs.Headers.{Header, has_colon_after_other, has_third_separator, has_bad_bar, has_second_bar, has_bad_pattern}
use Rattle.mk_class.specs.TextClasses.{itself}
use Rattle.mk_class.specs.LocatedClasses.{width}
use Rattle.mk_class.specs.declared.header.Parts.{Parts}

-- the header of these parts, from the units of the separator and of what follows the head
abbrev pub parts_header : (colons : List (List ℕ)) → Parts → (tail : List (List ℕ)) → Header ℕ
parts_header colons p tail = record {
  separator = p.separator;
  targets = units itself p.targets.now;
  colons = colons;
  pattern = units itself p.pattern.now;
  second_colon = if p.has_pattern then (58 ∷ []) ∷ [] else [];
  normal = units itself p.normal.now;
  bar = if p.has_order_only then (124 ∷ []) ∷ [] else [];
  order_only = units itself p.order_only.now;
  tail = tail;
}

-- what follows a separator, split at a second `:` if there is one: the pattern before the second
-- `:`, and what follows it
abbrev pub IsPatternSplit : (us : List (List ℕ)) → (found : Bool) → (pattern rest : List (List ℕ))
    → Type 0
IsPatternSplit us true p r = IsSplitAt 58 us p r
IsPatternSplit us false p r = (after_leading (is_other (58 ∷ [])) us ≡ []) × (p ≡ []) × (r ≡ us)

-- prerequisites, split at a `|` if there is one: the normal prerequisites, and the order-only ones
abbrev pub IsBarSplit : (us normal : List (List ℕ)) → (found : Bool) → (order_only : List (List ℕ))
    → Type 0
IsBarSplit us n true o = IsSplitAt 124 us n o
IsBarSplit us n false o = (after_leading (is_other (124 ∷ [])) us ≡ []) × (n ≡ us) × (o ≡ [])

-- whether the parts of a header's line make it Rough
abbrev pub is_rough_apart : Header ℕ → Bool
is_rough_apart h =
    has_colon_after_other itself h
    || (has_third_separator itself h
    || (has_bad_bar itself h
    || (has_second_bar itself h
    || has_bad_pattern itself h)))

-- the marks cover the parts of which it is asked whether they have a `|`
abbrev pub CoverParts : Marks → Parts → Type 0
CoverParts m p = Cover m p.targets.now × Cover m p.pattern.now × Cover m p.order_only.now

-- the parts are split at each `:` of the head up to the second: where there is no second, no third
-- follows
abbrev pub IsSplitAtColons : Parts → Type 0
IsSplitAtColons p =
    p.has_pattern ≡ false → has_third_separator itself (parts_header [] p []) ≡ false

-- the parts have the bytes of the head
abbrev pub FitsHead : (head : List ℕ) → Parts → Type 0
FitsHead head p =
    let h = parts_header (separated itself (units itself head)).colons p [] in
    (length head
    ≡ (((width h.targets + width h.colons) + width h.pattern) + width h.second_colon)
    + length p.prerequisites.now)
    × (length p.prerequisites.now ≡ (width h.normal + width h.bar) + width h.order_only)
