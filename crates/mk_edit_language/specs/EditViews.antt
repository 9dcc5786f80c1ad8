-- What contracts see of the program's edits: the edits of the definitions.
-- Told in docs/ARCHITECTURE.md, "An edit's way, from Edit to moved lines".
use Rattle.std.specs.Prelude.{ℕ, List, [], Option, Some, None, Vec}
use Rattle.mk_edit_language.specs.Edits as edits
use Rattle.mk_edit_language.specs.LineRuns.{block_lines}
use Rattle.mk_edit_language.specs.declared.edit.Place.{Place}
use Rattle.mk_edit_language.specs.declared.edit.Place.TheVariants as place
use Rattle.mk_edit_language.specs.declared.edit.Site.{Site}
use Rattle.mk_edit_language.specs.declared.edit.Site.TheVariants as site
use Rattle.mk_edit_language.specs.declared.edit.ValueChange.{ValueChange}
use Rattle.mk_edit_language.specs.declared.edit.ValueChange.TheVariants as change
use Rattle.mk_edit_language.specs.declared.edit.LineChange.{LineChange}
use Rattle.mk_edit_language.specs.declared.edit.LineChange.TheVariants as line
use Rattle.mk_edit_language.specs.declared.edit.EachEdit.{EachEdit}
use Rattle.mk_edit_language.specs.declared.edit.EachEdit.TheVariants as each
use Rattle.mk_edit_language.specs.declared.edit.Edit.{Edit}
use Rattle.mk_edit_language.specs.declared.edit.Edit.TheVariants as edit

-- a place; its text is seen as bytes
abbrev pub place_of : {A : _} → Place A → edits.Place
place_of place.Top = edits.Top
place_of place.Bottom = edits.Bottom
place_of (place.BeforeVar nth name) = edits.BeforeVar nth name.items
place_of (place.AfterVar nth name) = edits.AfterVar nth name.items
place_of (place.AfterLastVar name) = edits.AfterLastVar name.items
place_of (place.BeforeRule nth target) = edits.BeforeRule nth target.items
place_of (place.AfterRule nth target) = edits.AfterRule nth target.items

-- a site; a block in it is seen as its lines
abbrev pub site_of : {A : _} → Site A → edits.Site
site_of (site.AtPlace p) = edits.AtPlace (place_of p)
site_of (site.BeforeLines nth old) = edits.BeforeRun nth (block_lines old.items)
site_of (site.AfterLines nth old) = edits.AfterRun nth (block_lines old.items)
site_of (site.OfLines nth old) = edits.OfRun nth (block_lines old.items)
site_of (site.OfRule nth target) = edits.OfRuleRun nth target.items

-- the lines of a block, if there is one
abbrev pub lines_of : {A : _} → Option (Vec ℕ A) → List (List ℕ)
lines_of None = []
lines_of (Some block) = block_lines block.items

-- a change of values; its text is seen as bytes
abbrev pub value_change_of : {A : _} → ValueChange A → edits.ValueChange
value_change_of (change.Set value) = edits.Set value.items
value_change_of (change.SetIf old value) = edits.SetIf old.items value.items
value_change_of (change.Append value) = edits.Append value.items
value_change_of (change.Add word) = edits.Add word.items
value_change_of (change.Remove word) = edits.Remove word.items

-- a change of a line; its texts are seen as bytes
abbrev pub line_change_of : {A : _} → LineChange A → edits.LineChange
line_change_of (line.Prepend value) = edits.Prepend value.items
line_change_of (line.ReplaceWord word value) = edits.ReplaceWord word.items value.items
line_change_of (line.InsertWord side word new) = edits.InsertWord side word.items new.items
line_change_of (line.Substitute from to) = edits.Substitute from.items to.items
line_change_of (line.SetOperator flavor) = edits.SetOperator flavor

-- an edit of several lines; its texts are seen as bytes
abbrev pub each_edit_of : {A : _} → EachEdit A → edits.EachEdit
each_edit_of (each.ChangeEach name c) = edits.ChangeEach name.items (line_change_of c)
each_edit_of (each.SubstValues from to) = edits.SubstValues from.items to.items
each_edit_of (each.SubstRecipe nth target from to) =
    edits.SubstRecipe nth target.items from.items to.items
each_edit_of (each.SubstRecipes from to) = edits.SubstRecipes from.items to.items

-- an edit by its form; its texts are seen as bytes
abbrev pub edit_of : {A : _} → Edit A → edits.Edit
edit_of (edit.SetValue nth name value) =
    edits.ChangeValue (edits.One nth) name.items (edits.Set value.items)
edit_of (edit.SetValueIf nth name old value) =
    edits.ChangeValue (edits.One nth) name.items (edits.SetIf old.items value.items)
edit_of (edit.AppendValue nth name value) =
    edits.ChangeValue (edits.One nth) name.items (edits.Append value.items)
edit_of (edit.AddWord nth name word) =
    edits.ChangeValue (edits.One nth) name.items (edits.Add word.items)
edit_of (edit.RemoveWord nth name word) =
    edits.ChangeValue (edits.One nth) name.items (edits.Remove word.items)
edit_of (edit.ChangeValues name c) =
    edits.ChangeValue edits.Every name.items (value_change_of c)
edit_of (edit.ChangeLine nth name c) = edits.ChangeLine nth name.items (line_change_of c)
edit_of (edit.AddAssign p name flavor value) =
    edits.AddLine (place_of p) (edits.NewAssign name.items flavor value.items)
edit_of (edit.RemoveAssign nth name) = edits.RemoveLines (edits.OfAssign nth name.items)
edit_of (edit.CommentOut nth name) = edits.SwitchLine edits.CommentOut nth name.items
edit_of (edit.Uncomment nth name) = edits.SwitchLine edits.Uncomment nth name.items
edit_of (edit.AddRule p targets separator prereqs) =
    edits.AddLine (place_of p) (edits.NewRule targets.items separator prereqs.items)
edit_of (edit.RemoveRule nth target) = edits.RemoveLines (edits.OfRule nth target.items)
edit_of (edit.AddPrereq order nth target word) =
    edits.ChangePrereqs nth target.items (edits.AddPrereq order word.items)
edit_of (edit.RemovePrereq nth target word) =
    edits.ChangePrereqs nth target.items (edits.RemovePrereq word.items)
edit_of (edit.ReplacePrereq nth target old new) =
    edits.ChangePrereqs nth target.items (edits.ReplacePrereq old.items new.items)
edit_of (edit.AddRecipe nth target line) =
    edits.AddRecipe nth target.items edits.Last line.items
edit_of (edit.SetRecipe nth target number line) =
    edits.SetRecipe nth target.items (edits.ByNumber number) line.items
edit_of (edit.RemoveRecipe nth target number) =
    edits.RemoveLines (edits.OfRecipe nth target.items (edits.ByNumber number))
edit_of (edit.InsertRecipe nth target number line) =
    edits.AddRecipe nth target.items (edits.At number) line.items
edit_of (edit.SetRecipeByText nth target old line) =
    edits.SetRecipe nth target.items (edits.ByText old.items) line.items
edit_of (edit.RemoveRecipeByText nth target old) =
    edits.RemoveLines (edits.OfRecipe nth target.items (edits.ByText old.items))
edit_of (edit.RenameTarget from to) = edits.RenameTarget from.items to.items
edit_of (edit.ExchangeLines s block) = edits.ExchangeLines (site_of s) (lines_of block)
edit_of (edit.EachLine e) = edits.EachLine (each_edit_of e)
