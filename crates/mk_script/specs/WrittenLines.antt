-- The command of an edit as it is written, as private contracts speak of it.
-- Told in docs/EDITS.md, "The script".
use Rattle.std.specs.Prelude.{◌≡◌, ℕ, Bool, true, false, List, [], ◌∷◌, ◌++◌, map, codes}
use Rattle.std.specs.Borrow.{Bor}
use Rattle.std.specs.List.{AllByRecursion}
use Rattle.mk_lines.specs.Lists.{concat}
use Rattle.mk_lines.specs.Spacing.{spaced_words}
use Rattle.mk_edit_language.specs.Edits.{OfRecipe, Site, AtPlace, BeforeRun, AfterRun, OfRun, OfRuleRun, Edit, AddRecipe, SetRecipe, RemoveLines}
use Rattle.mk_script.specs.Blocks.{is_word}
use Rattle.mk_script.specs.CommandTable.{Content, Text, Block, texts, after_nth, nth_of_place, place_words}
use Rattle.mk_script.specs.ScriptLaws.{CanBeWritten}
use Rattle.mk_script.specs.declared.written_block.CommandText.{CommandText}
use Rattle.mk_script.specs.WrittenEdits.{free_word, has_line, is_below, field_in_line, lines_below, each_ended}

-- the fields that some slices show
abbrev pub fields_in : List (Bor (List ℕ)) → List (List ℕ)
fields_in [] = []
fields_in (field ∷ fields) = field.now ∷ fields_in fields

-- whether an edit is one of recipes
abbrev pub is_of_recipe : Edit → Bool
is_of_recipe (AddRecipe nth t p l) = true
is_of_recipe (SetRecipe nth t w l) = true
is_of_recipe (RemoveLines (OfRecipe nth t w)) = true
is_of_recipe e = false

-- the fields of an exchange of lines, up to the new lines
abbrev pub site_fields : Site → List Content
site_fields (AtPlace place) =
    after_nth (nth_of_place place) (texts (codes "insert" ∷ place_words place))
site_fields (BeforeRun nth old) =
    after_nth nth (Text (codes "insert") ∷ Text (codes "before-line") ∷ Block old ∷ [])
site_fields (AfterRun nth old) =
    after_nth nth (Text (codes "insert") ∷ Text (codes "after-line") ∷ Block old ∷ [])
site_fields (OfRun nth old) = after_nth nth (Text (codes "line-replace") ∷ Block old ∷ [])
site_fields (OfRuleRun nth target) = after_nth nth (texts (codes "rule-replace" ∷ target ∷ []))

-- a block that stands below its line ends with a word that none of its lines is
abbrev pub HasFreeWord : Content → Type 0
HasFreeWord (Block lines) =
    is_below lines ≡ true
    → (has_line lines (free_word lines) ≡ false) × (is_word (free_word lines) ≡ true)
HasFreeWord c = Unit {0}

-- A command with these fields is written: this is its line, and these lines, each with a line feed, stand
-- below it. A script can write its numbers and its blocks.
pub record IsCommandText (contents : List Content) (line below : List ℕ) : Type 0 where
  pub line_is : line ≡ spaced_words (map field_in_line contents)
  pub below_is : below ≡ each_ended (concat (map lines_below contents))
  pub can : CanBeWritten contents
  pub free : AllByRecursion HasFreeWord contents

-- The line and the lines below it of a written command, without and with one field more, which is a block.
pub record HasBlockMore (lines : List (List ℕ)) (line below now under : List ℕ) : Type 0 where
  pub line_is : now ≡ line ++ (codes " " ++ field_in_line (Block lines))
  pub below_is : under ≡ below ++ each_ended (lines_below (Block lines))
  pub free : HasFreeWord (Block lines)

abbrev pub IsTextOf : {A : _} → List Content → CommandText A → Type 0
IsTextOf contents text = IsCommandText contents text.line.items text.below.items
