-- The line that a report has for a refused command.
-- Told in docs/EDITS.md, "Running a script".
use Rattle.std.specs.Prelude.{ℕ, List, [], ◌++◌, codes, decimal}
use Rattle.mk_edit_language.specs.RefusalTexts.{number_of, name_of, detail_of, field_name}
use Rattle.mk_edit_language.specs.declared.refusal.Refusal.{Refusal}
use Rattle.mk_edit_language.specs.declared.refusal.Detail.{Detail}
use Rattle.mk_edit_language.specs.declared.refusal.Detail.TheVariants.{Count, Field, Nothing}

-- what a refusal says in addition to its name
abbrev detail_text : Detail → List ℕ
detail_text (Count n) = codes " " ++ decimal n
detail_text (Field f) = codes " " ++ field_name f
detail_text Nothing = []

-- what is said of a refusal: its number and its name, and a line feed
abbrev pub refusal_text : Refusal → List ℕ
refusal_text r =
    codes "refused " ++ (decimal (number_of r) ++ (codes " " ++ (name_of r
    ++ (detail_text (detail_of r) ++ codes "\n"))))

-- the line on the refusal of the command in the script's line of this number
abbrev pub report_line : (line : ℕ) → Refusal → List ℕ
report_line line r = (decimal line ++ codes ": ") ++ refusal_text r
