-- The separator of a rule, and a text taken apart at its separator.
-- Told in docs/LANGUAGE.md, chapter 3.
use Rattle.std.specs.Prelude.{ℕ, Bool, true, false, ◌&&◌, ◌||◌, List, ◌∷◌, map, take, drop, ◌++◌}
use Rattle.std.specs.List.{list_any}
use Rattle.mk_class.specs.ListTests.{until, from, first_passes}
use Rattle.mk_class.specs.Symbols.{Symbol, Colon, Ampersand, symbol, is_colon, is_ampersand}
use Rattle.mk_class.specs.declared.rule.Separator.{Separator}
use Rattle.mk_class.specs.declared.rule.Separator.TheVariants.{SingleColon, DoubleColon, GroupedColon, GroupedDoubleColon}

-- the longest separator that stands at the front of some symbols; the symbols begin with a
-- separator
abbrev pub separator_at : List Symbol → Separator
separator_at (Ampersand ∷ Colon ∷ Colon ∷ s) = GroupedDoubleColon
separator_at (Ampersand ∷ s) = GroupedColon
separator_at (Colon ∷ Colon ∷ s) = DoubleColon
separator_at s = SingleColon

-- how many bytes a separator has
abbrev pub separator_length : Separator → ℕ
separator_length SingleColon = 1
separator_length DoubleColon = 2
separator_length GroupedColon = 2
separator_length GroupedDoubleColon = 3

-- whether a separator is `:`
abbrev pub is_single_colon : Separator → Bool
is_single_colon SingleColon = true
is_single_colon s = false

-- whether a separator is `:` or `::`, after which an assignment may stand
abbrev pub takes_assignment : Separator → Bool
takes_assignment SingleColon = true
takes_assignment DoubleColon = true
takes_assignment s = false

-- A text taken apart at its first unit `:`. The three lists of units follow one another and are the
-- text: the units before the separator, the separator, and the units that follow it.
pub record Separated (A : Type 0) : Type 0 where
  pub separator : Separator
  pub targets : List (List A)
  pub colons : List (List A)
  pub rest : List (List A)

module _ {A : Type 0} (byte : A → ℕ) where
  -- whether there is a unit `:`
  abbrev pub has_colon : List (List A) → Bool
  has_colon us = list_any (is_colon byte) us

  -- whether a separator stands at the front of some units: a `:`, or a `&` with a `:` after it
  abbrev pub begins_separator : List (List A) → Bool
  begins_separator us =
      first_passes (is_colon byte) us
      || (first_passes (is_ampersand byte) us && first_passes (is_colon byte) (drop 1 us))

  -- a text taken apart at this separator, which stands before `from`
  abbrev pub separated_before : Separator → (targets from : List (List A)) → Separated A
  separated_before s t us = record {
    separator = s;
    targets = t;
    colons = take (separator_length s) us;
    rest = drop (separator_length s) us;
  }

  -- a text taken apart at its first separator
  abbrev pub separated : List (List A) → Separated A
  separated us =
      let rest = from begins_separator us in
      separated_before (separator_at (map (symbol byte) rest)) (until begins_separator us) rest

-- the units of a text taken apart at its separator
abbrev pub separated_units : {A : Type 0} → Separated A → List (List A)
separated_units s = s.targets ++ (s.colons ++ s.rest)
