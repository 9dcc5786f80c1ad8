-- Units found by their bytes: the first unit that is a given byte, an operator or a separator at
-- the front, and the first separator.
use Rattle.std.specs.Prelude.{◌≡◌, ℕ, ◌==◌, Bool, false, not, List, [], ◌∷◌, map, drop, Some}
use Rattle.std.specs.List.{list_any}
use Rattle.mk_lines.specs.Lists.{leading, after_leading}
use Rattle.mk_lines.specs.Units.{byte_mark, Unmarked}
use Rattle.mk_class.specs.Symbols.{symbol}
use Rattle.mk_class.specs.Assignments.{operator_at, operator_length}
use Rattle.mk_class.specs.TextClasses.{itself}
use Rattle.mk_class.specs.ListTests.{from}
use Rattle.mk_class.specs.Separators.{begins_separator, separator_at, separator_length}
use Rattle.mk_class.specs.declared.assignment.Flavor.{Flavor}
use Rattle.mk_class.specs.declared.rule.Separator.{Separator}

-- whether a unit is one of these bytes
abbrev pub is_one_byte_of : List ℕ → List ℕ → Bool
is_one_byte_of bytes [] = false
is_one_byte_of bytes (x ∷ []) = list_any (λ b. b == x) bytes
is_one_byte_of bytes (x ∷ y ∷ u) = false

-- whether a unit is none of these bytes
abbrev pub is_other : List ℕ → List ℕ → Bool
is_other bytes u = not (is_one_byte_of bytes u)

-- no longer unit begins with one of the bytes
abbrev pub AreUnmarked : List ℕ → Type 0
AreUnmarked [] = Unit {0}
AreUnmarked (b ∷ bs) = (byte_mark b ≡ Unmarked) × AreUnmarked bs

-- units split at the first unit that is this byte
abbrev pub IsSplitAt : (byte : ℕ) → (us front rest : List (List ℕ)) → Type 0
IsSplitAt byte us front rest =
    (leading (is_other (byte ∷ [])) us ≡ front)
    × (after_leading (is_other (byte ∷ [])) us ≡ (byte ∷ []) ∷ rest)

-- the operator of this flavor is the longest at the front of some units, and `rest` follows it
abbrev pub IsOperatorAt : List (List ℕ) → Flavor → (rest : List (List ℕ)) → Type 0
IsOperatorAt us f rest =
    (operator_at (map (symbol itself) us) ≡ Some f) × (rest ≡ drop (operator_length f) us)

-- this separator is the longest at the front of some units, and `rest` follows it
abbrev pub IsSeparatorAt : List (List ℕ) → Separator → (rest : List (List ℕ)) → Type 0
IsSeparatorAt us s rest =
    (separator_at (map (symbol itself) us) ≡ s) × (rest ≡ drop (separator_length s) us)

-- units at their first separator: the separator, the units from the separator on, and the units
-- that follow it
abbrev pub AreSeparated : List (List ℕ) → Separator → (start rest : List (List ℕ)) → Type 0
AreSeparated us s start rest =
    (start ≡ from (begins_separator itself) us) × IsSeparatorAt start s rest
