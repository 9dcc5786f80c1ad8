-- What a migration makes of the lines of a makefile.
-- Told in docs/LIBRARY.md, "A course of one page".
use Rattle.std.specs.Prelude.{◌≡◌, ◌⊎◌, ℕ, true, List, [], ◌∷◌}
use Rattle.mk_class.specs.ClassedLines.{ClassedLine}
use Rattle.mk_edit_language.specs.Addresses.{assigns}
use Rattle.mk_session.specs.Lookups.{value_of}

-- a line assigns the variable of this name, and gives it this value
abbrev pub HasValue : (name value : List ℕ) → ClassedLine → Type 0
HasValue n v l = (assigns n l.class ≡ true) × (value_of l.class ≡ v)

-- Each line after is the line before, or is in the place of an assignment of this name that had the
-- old value.
abbrev pub AreMigrated : (name old : List ℕ) → (before after : List ClassedLine) → Type 0
AreMigrated n v [] [] = Unit {0}
AreMigrated n v [] (m ∷ ms) = ⊥
AreMigrated n v (l ∷ ls) [] = ⊥
AreMigrated n v (l ∷ ls) (m ∷ ms) = ((m ≡ l) ⊎ HasValue n v l) × AreMigrated n v ls ms
