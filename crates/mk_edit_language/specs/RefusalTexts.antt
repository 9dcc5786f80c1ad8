-- What a report says of a refusal: its number, its name, and a count or a field, if it has one.
-- Told in docs/EDITS.md, "Running a script" and "Refusals".
use Rattle.std.specs.Prelude.{ℕ, List, codes}
use Rattle.mk_edit_language.specs.declared.refusal.Field.{Field}
use Rattle.mk_edit_language.specs.declared.refusal.Field.TheVariants as field
use Rattle.mk_edit_language.specs.declared.refusal.Refusal.{Refusal}
use Rattle.mk_edit_language.specs.declared.refusal.Refusal.TheVariants.{BadArgument, Reserved, RecipePrefix, NoSuch, Ambiguous, Absent, Already, Taken, SharedRule, Straddles, OpenValue, OpenLine, OpenDefine, Leans, TooLong, NothingToUndo, NothingToRedo, GroupOpen, NoGroup, NoMemory, Misread}
use Rattle.mk_edit_language.specs.declared.refusal.Detail.{Detail}
use Rattle.mk_edit_language.specs.declared.refusal.Detail.TheVariants as detail

-- the number of a refusal
abbrev pub number_of : Refusal → ℕ
number_of (BadArgument f) = 1
number_of Reserved = 2
number_of RecipePrefix = 3
number_of NoSuch = 4
number_of (Ambiguous n) = 5
number_of Absent = 6
number_of Already = 7
number_of Taken = 8
number_of (SharedRule n) = 9
number_of Straddles = 10
number_of OpenValue = 11
number_of OpenLine = 12
number_of OpenDefine = 13
number_of Leans = 14
number_of TooLong = 15
number_of NothingToUndo = 16
number_of NothingToRedo = 17
number_of GroupOpen = 18
number_of NoGroup = 19
number_of NoMemory = 20
number_of Misread = 21

-- the name of a refusal
abbrev pub name_of : Refusal → List ℕ
name_of (BadArgument f) = codes "BadArgument"
name_of Reserved = codes "Reserved"
name_of RecipePrefix = codes "RecipePrefix"
name_of NoSuch = codes "NoSuch"
name_of (Ambiguous n) = codes "Ambiguous"
name_of Absent = codes "Absent"
name_of Already = codes "Already"
name_of Taken = codes "Taken"
name_of (SharedRule n) = codes "SharedRule"
name_of Straddles = codes "Straddles"
name_of OpenValue = codes "OpenValue"
name_of OpenLine = codes "OpenLine"
name_of OpenDefine = codes "OpenDefine"
name_of Leans = codes "Leans"
name_of TooLong = codes "TooLong"
name_of NothingToUndo = codes "NothingToUndo"
name_of NothingToRedo = codes "NothingToRedo"
name_of GroupOpen = codes "GroupOpen"
name_of NoGroup = codes "NoGroup"
name_of NoMemory = codes "NoMemory"
name_of Misread = codes "Misread"

-- the count or the field that a refusal has, or Nothing
abbrev pub detail_of : Refusal → Detail
detail_of (BadArgument f) = detail.Field f
detail_of (Ambiguous n) = detail.Count n
detail_of (SharedRule n) = detail.Count n
detail_of r = detail.Nothing

-- the name of a field
abbrev pub field_name : Field → List ℕ
field_name field.Place = codes "place"
field_name field.Name = codes "name"
field_name field.Value = codes "value"
field_name field.Targets = codes "targets"
field_name field.Prereqs = codes "prereqs"
field_name field.Target = codes "target"
field_name field.Word = codes "word"
field_name field.Line = codes "line"
field_name field.Old = codes "old"
field_name field.New = codes "new"
field_name field.From = codes "from"
field_name field.To = codes "to"
field_name field.Block = codes "block"
