-- Units, of any list whose elements stand for bytes: a text, or the cells of a line. Here a machine
-- cuts them from the left; `specs/FirstUnit` says what a unit is without a machine, and a law says
-- that the two agree.
-- Told in docs/LANGUAGE.md, chapter 1.
use Rattle.std.specs.Prelude.{ℕ, suc, zero, ◌==◌, if◌then◌else◌, Bool, true, false, List}
use Rattle.mk_lines.specs.Cut.{state_after, pieces}

-- what a byte is to units
pub data Mark : Type 0 where
  Dollar : Mark
  Escape : Mark
  OpenParen : Mark
  CloseParen : Mark
  OpenBrace : Mark
  CloseBrace : Mark
  Unmarked : Mark

-- the mark of a byte: a dollar, a backslash, one of four brackets, or none of these
abbrev pub byte_mark : ℕ → Mark
byte_mark b =
    if b == 36 then Dollar else
    if b == 92 then Escape else
    if b == 40 then OpenParen else
    if b == 41 then CloseParen else
    if b == 123 then OpenBrace else
    if b == 125 then CloseBrace else
    Unmarked

-- Where a text ends: between two units, or after a part of one. In a reference the number says how
-- many of its brackets are open in addition to the first.
pub data UnitState : Type 0 where
  Between : UnitState
  AfterDollar : UnitState
  AfterBackslash : UnitState
  InParens : ℕ → UnitState
  InBraces : ℕ → UnitState

-- the state after one more byte
abbrev pub next_unit_state : UnitState → Mark → UnitState
next_unit_state Between Dollar = AfterDollar
next_unit_state Between Escape = AfterBackslash
next_unit_state Between m = Between
next_unit_state AfterBackslash Dollar = AfterDollar
next_unit_state AfterBackslash m = Between
next_unit_state AfterDollar OpenParen = InParens 0
next_unit_state AfterDollar OpenBrace = InBraces 0
next_unit_state AfterDollar m = Between
next_unit_state (InParens zero) CloseParen = Between
next_unit_state (InParens (suc n)) CloseParen = InParens n
next_unit_state (InParens n) OpenParen = InParens (suc n)
next_unit_state (InParens n) m = InParens n
next_unit_state (InBraces zero) CloseBrace = Between
next_unit_state (InBraces (suc n)) CloseBrace = InBraces n
next_unit_state (InBraces n) OpenBrace = InBraces (suc n)
next_unit_state (InBraces n) m = InBraces n

-- whether a byte begins a unit: the text before it ends between two units, or the byte is a dollar
-- after a backslash, which does not take a dollar
abbrev pub begins_unit : UnitState → Mark → Bool
begins_unit Between m = true
begins_unit AfterBackslash Dollar = true
begins_unit s m = false

-- whether this state is between two units
abbrev pub is_between : UnitState → Bool
is_between Between = true
is_between s = false

module _ {A : Type 0} (byte : A → ℕ) where
  -- the state after one more element, and whether an element begins a unit
  abbrev pub unit_step : UnitState → A → UnitState
  unit_step s x = next_unit_state s (byte_mark (byte x))

  abbrev pub unit_begins : UnitState → A → Bool
  unit_begins s x = begins_unit s (byte_mark (byte x))

  -- the units of a text
  abbrev pub units : List A → List (List A)
  units t = pieces unit_step unit_begins Between t

  -- whether a text is closed: no unit is a lone dollar or an unclosed reference, and the last unit
  -- is not a lone backslash. Each of these can only stand last, so it is enough that the text ends
  -- between two units.
  abbrev pub is_closed : List A → Bool
  is_closed t = is_between (state_after unit_step Between t)
