-- The numbers of a script.
-- Told in docs/EDITS.md, "The script".
use Rattle.std.specs.Prelude.{ℕ, Bool, not, ◌&&◌, nat_lt, if◌then◌else◌, List, length, Option, Some, None}
use Rattle.std.specs.List.{list_all}
use Rattle.std.specs.Char.{is_ascii_digit}
use Rattle.std.specs.Str.Parse.{digits_value}

-- whether a text is one to ten decimal digits of a value that is at most 4,294,967,295; leading zeros
-- are digits
abbrev pub is_number : List ℕ → Bool
is_number digits =
    not (nat_lt 10 (length digits))
    && nat_lt 0 (length digits)
    && list_all is_ascii_digit digits
    && nat_lt (digits_value 10 digits) 4294967296

-- the number that a text writes
abbrev pub number : List ℕ → Option ℕ
number digits = if is_number digits then Some (digits_value 10 digits) else None
