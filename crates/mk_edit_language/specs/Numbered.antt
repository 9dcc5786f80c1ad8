-- An edit of the line that has a number, in place of the only one.
-- Told in docs/LIBRARY.md, "Making edits".
use Rattle.std.specs.Prelude.{ℕ, Some}
use Rattle.mk_edit_language.specs.Edits.{Place, Top, Bottom, BeforeVar, AfterVar, AfterLastVar, BeforeRule, AfterRule, Site, AtPlace, BeforeRun, AfterRun, OfRun, OfRuleRun, One, Every, Removal, OfAssign, OfRule, OfRecipe, Edit, ChangeValue, ChangeLine, ChangePrereqs, AddLine, AddRecipe, SetRecipe, RemoveLines, RenameTarget, ExchangeLines, EachEdit, ChangeEach, SubstValues, SubstRecipe, SubstRecipes, EachLine, SwitchLine}

-- a place with this number; the start and the end of the text have none, and the last assignment of
-- a name has none
abbrev pub numbered_place : (number : ℕ) → Place → Place
numbered_place k Top = Top
numbered_place k Bottom = Bottom
numbered_place k (BeforeVar nth name) = BeforeVar (Some k) name
numbered_place k (AfterVar nth name) = AfterVar (Some k) name
numbered_place k (AfterLastVar name) = AfterLastVar name
numbered_place k (BeforeRule nth target) = BeforeRule (Some k) target
numbered_place k (AfterRule nth target) = AfterRule (Some k) target

-- a site with this number, which is that of its run, of its rule or of its place
abbrev pub numbered_site : (number : ℕ) → Site → Site
numbered_site k (AtPlace p) = AtPlace (numbered_place k p)
numbered_site k (BeforeRun nth old) = BeforeRun (Some k) old
numbered_site k (AfterRun nth old) = AfterRun (Some k) old
numbered_site k (OfRun nth old) = OfRun (Some k) old
numbered_site k (OfRuleRun nth target) = OfRuleRun (Some k) target

-- a removal with this number
abbrev numbered_removal : (number : ℕ) → Removal → Removal
numbered_removal k (OfAssign nth name) = OfAssign (Some k) name
numbered_removal k (OfRule nth target) = OfRule (Some k) target
numbered_removal k (OfRecipe nth target which) = OfRecipe (Some k) target which

-- an edit of several lines with this number, which is that of a rule; the other edits have none
abbrev pub numbered_each : (number : ℕ) → EachEdit → EachEdit
numbered_each k (ChangeEach n c) = ChangeEach n c
numbered_each k (SubstValues f t) = SubstValues f t
numbered_each k (SubstRecipe nth g f t) = SubstRecipe (Some k) g f t
numbered_each k (SubstRecipes f t) = SubstRecipes f t

-- an edit with this number. In an edit that puts a line in, it is the number of the place. An edit
-- that means each line of a name has none.
abbrev pub numbered : (number : ℕ) → Edit → Edit
numbered k (ChangeValue (One nth) n c) = ChangeValue (One (Some k)) n c
numbered k (ChangeValue Every n c) = ChangeValue Every n c
numbered k (ChangeLine nth n c) = ChangeLine (Some k) n c
numbered k (ChangePrereqs nth g c) = ChangePrereqs (Some k) g c
numbered k (AddLine p l) = AddLine (numbered_place k p) l
numbered k (AddRecipe nth g p l) = AddRecipe (Some k) g p l
numbered k (SetRecipe nth g w l) = SetRecipe (Some k) g w l
numbered k (RemoveLines r) = RemoveLines (numbered_removal k r)
numbered k (SwitchLine w nth n) = SwitchLine w (Some k) n
numbered k (RenameTarget o n) = RenameTarget o n
numbered k (ExchangeLines s ts) = ExchangeLines (numbered_site k s) ts
numbered k (EachLine e) = EachLine (numbered_each k e)
