-- The edits by their forms, and the lines that they speak of, as data.
-- Told in docs/EDITS.md, "The script" and "Addresses".
use Rattle.std.specs.Prelude.{ℕ, Bool, List, Option}
use Rattle.mk_class.specs.declared.assignment.Flavor.{Flavor}
use Rattle.mk_edit_language.specs.declared.edit.RuleSeparator.{RuleSeparator}
use Rattle.mk_edit_language.specs.declared.edit.Side.{Side}

-- Where a new line goes: to the start or the end of the text, to the start or the end of an
-- assignment's line, to the end of the last assignment of a name, to the start of a rule's line, or to
-- the end of a rule's recipe. `nth` is the number of the line, from 1, among the lines of the same name
-- or target.
pub data Place : Type 0 where
  Top : Place
  Bottom : Place
  BeforeVar : (nth : Option ℕ) → (name : List ℕ) → Place
  AfterVar : (nth : Option ℕ) → (name : List ℕ) → Place
  AfterLastVar : (name : List ℕ) → Place
  BeforeRule : (nth : Option ℕ) → (target : List ℕ) → Place
  AfterRule : (nth : Option ℕ) → (target : List ℕ) → Place

-- Where new lines go: to a place of a new line, to the start or the end of a run, which is lines that
-- say what a block says; or in the place of a run, or of the run of a rule. A block is here the list of
-- its lines, and `nth` is the number of the run, from 1, or that of the rule.
pub data Site : Type 0 where
  AtPlace : Place → Site
  BeforeRun : (nth : Option ℕ) → (old : List (List ℕ)) → Site
  AfterRun : (nth : Option ℕ) → (old : List (List ℕ)) → Site
  OfRun : (nth : Option ℕ) → (old : List (List ℕ)) → Site
  OfRuleRun : (nth : Option ℕ) → (target : List ℕ) → Site

-- A new line that goes to a place. The targets of a rule are one text, which is cut into words, and
-- so are its prerequisites.
pub data NewLine : Type 0 where
  NewAssign : (name : List ℕ) → (flavor : Flavor) → (value : List ℕ) → NewLine
  NewRule : (targets : List ℕ) → (separator : RuleSeparator) → (prereqs : List ℕ) → NewLine

-- which assignments of a name: the one of this number, from 1, or the only one; or each
pub data Which : Type 0 where
  One : (nth : Option ℕ) → Which
  Every : Which

-- What an edit does to a value: it puts another in its place, or in the place of a value that is this
-- one, puts a text after it, puts a word after it that is none of its words, or takes one of its words
-- out.
pub data ValueChange : Type 0 where
  Set : (value : List ℕ) → ValueChange
  SetIf : (old value : List ℕ) → ValueChange
  Append : (value : List ℕ) → ValueChange
  Add : (word : List ℕ) → ValueChange
  Remove : (word : List ℕ) → ValueChange

-- What an edit that is checked by reading does to the line of an assignment: it puts a text before
-- the value, puts a text in the place of each word of the value that is this one, puts a new word on
-- one side of this one, puts a text in the place of each occurrence of another in the value, or gives
-- the line another operator.
pub data LineChange : Type 0 where
  Prepend : (value : List ℕ) → LineChange
  ReplaceWord : (word value : List ℕ) → LineChange
  InsertWord : (side : Side) → (word new : List ℕ) → LineChange
  Substitute : (from to : List ℕ) → LineChange
  SetOperator : (flavor : Flavor) → LineChange

-- An edit of several lines that is checked by reading: a change of the line of each assignment of a
-- name; or a text in the place of each occurrence of another: in the values of all assignments, in the
-- recipe lines of the rules for a target or of the nth of them, or in all recipe lines. A change that
-- puts a word beside another one is refused here.
pub data EachEdit : Type 0 where
  ChangeEach : (name : List ℕ) → (change : LineChange) → EachEdit
  SubstValues : (from to : List ℕ) → EachEdit
  SubstRecipe : (nth : Option ℕ) → (target from to : List ℕ) → EachEdit
  SubstRecipes : (from to : List ℕ) → EachEdit

-- What an edit does to the prerequisites of a rule: it puts a word after the order-only or the normal
-- ones, takes a word out of both, or puts a new one in its place in both.
pub data PrereqChange : Type 0 where
  AddPrereq : (order : Bool) → (word : List ℕ) → PrereqChange
  RemovePrereq : (word : List ℕ) → PrereqChange
  ReplacePrereq : (old new : List ℕ) → PrereqChange

-- what an edit does with the `#` of a comment: it puts one before the line of an assignment, or takes
-- it from a comment that says an assignment
pub data Switch : Type 0 where
  CommentOut : Switch
  Uncomment : Switch

-- which recipe line of a rule: the one of this number, from 1, or the only one of this text
pub data RecipeLine : Type 0 where
  ByNumber : (number : ℕ) → RecipeLine
  ByText : (old : List ℕ) → RecipeLine

-- where a new recipe line of a rule goes: after the last one, or where it gets this number, from 1
pub data RecipePlace : Type 0 where
  Last : RecipePlace
  At : (number : ℕ) → RecipePlace

-- the lines that an edit takes out: that of an assignment, those of a rule and its recipe, or that of
-- a recipe line
pub data Removal : Type 0 where
  OfAssign : (nth : Option ℕ) → (name : List ℕ) → Removal
  OfRule : (nth : Option ℕ) → (target : List ℕ) → Removal
  OfRecipe : (nth : Option ℕ) → (target : List ℕ) → (which : RecipeLine) → Removal

-- An edit. `nth` is the number of the line, from 1, among the lines of the same name or target. The
-- new lines of an exchange are those of a block; none if lines are taken out.
pub data Edit : Type 0 where
  ChangeValue : (which : Which) → (name : List ℕ) → (change : ValueChange) → Edit
  ChangeLine : (nth : Option ℕ) → (name : List ℕ) → (change : LineChange) → Edit
  ChangePrereqs : (nth : Option ℕ) → (target : List ℕ) → (change : PrereqChange) → Edit
  AddLine : (place : Place) → (line : NewLine) → Edit
  AddRecipe : (nth : Option ℕ) → (target : List ℕ) → (place : RecipePlace) → (line : List ℕ) → Edit
  SetRecipe : (nth : Option ℕ) → (target : List ℕ) → (which : RecipeLine) → (line : List ℕ) → Edit
  RemoveLines : (lines : Removal) → Edit
  SwitchLine : (switch : Switch) → (nth : Option ℕ) → (name : List ℕ) → Edit
  RenameTarget : (old new : List ℕ) → Edit
  ExchangeLines : (site : Site) → (new : List (List ℕ)) → Edit
  EachLine : (edit : EachEdit) → Edit
