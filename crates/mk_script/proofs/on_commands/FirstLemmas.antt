-- First commands are commands.
use Rattle.std.proofs.Common.{ℕ, List, [], true, false}
use Rattle.std.specs.Prelude.{Option, Some, None, IsSomeAnd}
use Rattle.mk_edit_language.specs.Edits.{Bottom, BeforeVar, AfterVar, BeforeRule, NewAssign, NewRule, One, Set, Append, AddPrereq, RemovePrereq, ByNumber, Last, OfAssign, OfRule, OfRecipe, Edit, ChangeValue, ChangePrereqs, AddLine, AddRecipe, SetRecipe, RemoveLines, RenameTarget}
use Rattle.mk_history.specs.Machine.{Command, Apply, Undo, Redo, Begin, End, Cancel}
use Rattle.mk_script.specs.Fields.{Field}
use Rattle.mk_script.specs.CommandTable.{Content, after_nth, HaveContents, IsCommand}
use Rattle.mk_script.specs.FirstCommands.{row, IsFirstCommand}

in-row : (fs : List Field) (nth : Option ℕ) (contents : List Content) → IsSomeAnd (row nth contents) (HaveContents fs []) → HaveContents fs [] (after_nth nth contents)
in-row fs None contents h = h
in-row fs (Some n) contents h = h

pub first-command : (fs : List Field) (c : Command Edit) → IsFirstCommand fs c → IsCommand fs [] c
first-command fs (Apply (ChangeValue (One nth) name (Set value))) h = in-row fs nth _ h
first-command fs (Apply (ChangeValue (One nth) name (Append value))) h = in-row fs nth _ h
first-command fs (Apply (RemoveLines (OfAssign nth name))) h = in-row fs nth _ h
first-command fs (Apply (AddLine Bottom (NewAssign name flavor value))) h = h
first-command fs (Apply (AddLine Bottom (NewRule targets separator prereqs))) h = h
first-command fs (Apply (AddLine (BeforeVar nth var) (NewAssign name flavor value))) h = in-row fs nth _ h
first-command fs (Apply (AddLine (BeforeVar nth var) (NewRule targets separator prereqs))) h = in-row fs nth _ h
first-command fs (Apply (AddLine (AfterVar nth var) (NewAssign name flavor value))) h = in-row fs nth _ h
first-command fs (Apply (AddLine (AfterVar nth var) (NewRule targets separator prereqs))) h = in-row fs nth _ h
first-command fs (Apply (AddLine (BeforeRule nth target) (NewAssign name flavor value))) h = in-row fs nth _ h
first-command fs (Apply (AddLine (BeforeRule nth target) (NewRule targets separator prereqs))) h = in-row fs nth _ h
first-command fs (Apply (RemoveLines (OfRule nth target))) h = in-row fs nth _ h
first-command fs (Apply (ChangePrereqs nth target (AddPrereq false word))) h = in-row fs nth _ h
first-command fs (Apply (ChangePrereqs nth target (AddPrereq true word))) h = in-row fs nth _ h
first-command fs (Apply (ChangePrereqs nth target (RemovePrereq word))) h = in-row fs nth _ h
first-command fs (Apply (AddRecipe nth target Last line)) h = in-row fs nth _ h
first-command fs (Apply (SetRecipe nth target (ByNumber k) line)) h = in-row fs nth _ h
first-command fs (Apply (RemoveLines (OfRecipe nth target (ByNumber k)))) h = in-row fs nth _ h
first-command fs (Apply (RenameTarget old new)) h = h
first-command fs Undo h = h
first-command fs Redo h = h
first-command fs Begin h = h
first-command fs End h = h
first-command fs Cancel h = h
first-command fs c h = absurd h
