-- What a class says of the numbers of open conditionals and open defines.
-- Told in docs/LANGUAGE.md, chapter 6.
use Rattle.std.specs.Prelude.{◌≡◌, ℕ, suc}
use Rattle.mk_lines.specs.Cells.{Cell}
use Rattle.mk_class.specs.Classes.{Class}
use Rattle.mk_class.specs.Classes.Class.{Endef, Body, Else, Endif}
use Rattle.mk_class.specs.declared.context.Nesting.TheVariants.{Opens, Closes, Keeps}

-- what a class says of the numbers of open defines and conditionals: an Endef ends the only define;
-- a Body that closes a define stands in two or more, and any other Body in one or more; each other
-- line stands in none, and an Else or Endif also in a conditional
abbrev pub FitsCounts : (defines conditionals : ℕ) → Class Cell → Type 0
FitsCounts n c Endef = n ≡ 1
FitsCounts n c (Body Opens) = (m : ℕ) × (n ≡ suc m)
FitsCounts n c (Body Closes) = (m : ℕ) × (n ≡ suc (suc m))
FitsCounts n c (Body Keeps) = (m : ℕ) × (n ≡ suc m)
FitsCounts n c Else = (n ≡ 0) × ((m : ℕ) × (c ≡ suc m))
FitsCounts n c Endif = (n ≡ 0) × ((m : ℕ) × (c ≡ suc m))
FitsCounts n c k = n ≡ 0
