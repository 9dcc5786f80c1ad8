-- Runs with their answers. Made by `tests/definitions/run_rows.py tests/cases/runs.tsv`.
use Rattle.std.proofs.Common.{◌≡◌, refl, ℕ, Bool, true, false, List, [], ◌∷◌, map, Option, Some, None}
use Rattle.std.specs.Prelude.{codes}
use Rattle.std.specs.Fmt.{digits}
use Rattle.mk_class.specs.declared.assignment.Flavor.TheVariants.{Recursive, Simple}
use Rattle.mk_edit_language.specs.declared.edit.RuleSeparator.TheVariants.{Single}
use Rattle.mk_edit_language.specs.Edits.{Bottom, BeforeVar}
use Rattle.mk_edit_language.specs.Edits.{One, Every, NewAssign, NewRule, AddPrereq, RemovePrereq, ByNumber, ByText, Last, OfAssign, OfRule, OfRecipe, ChangeValue, ChangePrereqs, AddLine, AddRecipe, SetRecipe, RemoveLines, RenameTarget}
use Rattle.mk_edit_language.specs.Edits as edits
use Rattle.mk_history.specs.Machine.{Apply, Undo, Redo, Begin, End, Cancel}
use Rattle.mk_script.specs.Scripts.{Step}
use Rattle.mk_rows.proofs.scripts.ScriptReader.{on_line}
use Rattle.mk_history.specs.Shown.{shown_opened}
use Rattle.mk_run.specs.ExecutedSteps.{executed_steps}
use Rattle.mk_run.specs.Runs.{RunResult, result_after}
use Rattle.mk_run.specs.declared.outcome.Outcome.{Outcome}
use Rattle.mk_run.specs.declared.outcome.Outcome.TheVariants.{Done, Refused}

abbrev came_to : (keep_going : Bool) → (depth : ℕ) → (makefile : List ℕ) → List Step → RunResult
came_to k depth text steps = result_after k (executed_steps k steps (shown_opened depth text))

abbrev ends : Outcome → (report : List ℕ) → (output : Option (List ℕ)) → RunResult
ends outcome report output = record { outcome = outcome; report = report; output = output }

abbrev rows_1 : List (Bool × ℕ × List ℕ × List Step × RunResult)
rows_1 =
    (false, 100, [], [], ends Done [] (Some [])) ∷  -- empty-script-on-an-empty-file
    (false, 100, codes "CC = gcc # c\n", on_line 1 (Apply (ChangeValue (One None) (codes "CC") (edits.Set (codes "clang")))) ∷ [], ends Done [] (Some (codes "CC = clang # c\n"))) ∷  -- set-keeps-the-comment
    (false, 100, codes "F = a \\\n    b\nG=1\n", on_line 1 (Apply (ChangeValue (One None) (codes "F") (edits.Set (codes "x y")))) ∷ on_line 2 Undo ∷ [], ends Done [] (Some (codes "F = a \\\n    b\nG=1\n"))) ∷  -- undo-brings-the-fold-back
    (false, 100, codes "F = a \\\n    b\nG=1\n", on_line 1 (Apply (ChangeValue (One None) (codes "F") (edits.Set (codes "x y")))) ∷ on_line 2 Undo ∷ on_line 3 Redo ∷ [], ends Done [] (Some (codes "F = x y\nG=1\n"))) ∷  -- redo-replaces-the-fold-again
    (false, 100, codes "X=1", on_line 1 (Apply (AddLine Bottom (NewAssign (codes "Y") Simple (codes "2")))) ∷ on_line 2 Undo ∷ [], ends Done [] (Some (codes "X=1"))) ∷  -- undo-takes-the-added-line-end-away
    (false, 100, codes "X = a\\", on_line 1 (Apply (AddLine Bottom (NewAssign (codes "Y") Recursive (codes "1")))) ∷ [], ends (Refused 1) (codes "1: refused 12 OpenLine\n") None) ∷  -- assign-after-an-open-line-is-refused
    (false, 100, codes "foo:\nX = 1\n\tY = 2\n", on_line 1 (Apply (RemoveLines (OfAssign None (codes "X")))) ∷ [], ends (Refused 1) (codes "1: refused 14 Leans\n") None) ∷  -- unset-above-a-tab-led-line-is-refused
    (false, 100, codes "ifdef A\nCC=x\nelse\nCC=y\nendif\n", on_line 1 (Apply (ChangeValue (One None) (codes "CC") (edits.Set (codes "z")))) ∷ [], ends (Refused 1) (codes "1: refused 5 Ambiguous 2\n") None) ∷  -- set-of-one-of-two-assignments-is-ambiguous
    (true, 2, codes "X=0\n", on_line 1 (Apply (ChangeValue (One None) (codes "X") (edits.Set (codes "1")))) ∷ on_line 2 (Apply (ChangeValue (One None) (codes "X") (edits.Set (codes "2")))) ∷ on_line 3 (Apply (ChangeValue (One None) (codes "X") (edits.Set (codes "3")))) ∷ on_line 4 Undo ∷ on_line 5 Undo ∷ on_line 6 Undo ∷ [], ends (Refused 1) (codes "6: refused 16 NothingToUndo\n") (Some (codes "X=1\n"))) ∷  -- undo-stops-at-the-depth
    (true, 100, codes "X=0\n", on_line 1 (Apply (ChangeValue (One None) (codes "X") (edits.Set (codes "1")))) ∷ on_line 2 Undo ∷ on_line 3 (Apply (ChangeValue (One None) (codes "X") (edits.Set (codes "2")))) ∷ on_line 4 Redo ∷ [], ends (Refused 1) (codes "4: refused 17 NothingToRedo\n") (Some (codes "X=2\n"))) ∷  -- set-after-undo-empties-redo
    (false, 100, codes "X = $(foo\n", on_line 1 (Apply (ChangeValue (One None) (codes "X") (edits.Append (codes "${)#}")))) ∷ [], ends (Refused 1) (codes "1: refused 11 OpenValue\n") None) ∷  -- append-to-an-open-reference-is-refused
    (false, 100, codes "define D\nX = 1\n\tendef\nendef\n", on_line 1 (Apply (ChangeValue (One None) (codes "X") (edits.Set (codes "2")))) ∷ [], ends (Refused 1) (codes "1: refused 4 NoSuch\n") None) ∷  -- set-inside-a-define-finds-nothing
    (false, 100, codes "define D\nX = 1\n\tendef\n", on_line 1 (Apply (AddLine Bottom (NewAssign (codes "Y") Recursive (codes "1")))) ∷ [], ends (Refused 1) (codes "1: refused 13 OpenDefine\n") None) ∷  -- assign-below-an-open-define-is-refused
    (false, 100, codes "X=\n", on_line 1 (Apply (ChangeValue (One None) (codes "X") (edits.Set (codes "a #b")))) ∷ [], ends (Refused 1) (codes "1: refused 1 BadArgument value\n") None) ∷  -- set-value-with-a-comment-sign-is-refused
    (false, 100, codes "all:\n", on_line 1 (Apply (RenameTarget (codes "all") (codes "include"))) ∷ [], ends (Refused 1) (codes "1: refused 2 Reserved\n") None) ∷  -- rename-to-a-directive-word-is-refused
    (false, 100, codes "foo: a\n", on_line 1 (Apply (ChangePrereqs None (codes "foo") (AddPrereq true (codes "d")))) ∷ on_line 2 (Apply (ChangePrereqs None (codes "foo") (AddPrereq false (codes "b")))) ∷ [], ends Done [] (Some (codes "foo: a b | d\n"))) ∷  -- depend-after-depend-order
    (false, 100, codes "foo: a\n", on_line 1 (Apply (ChangePrereqs None (codes "foo") (AddPrereq true (codes "d")))) ∷ on_line 2 (Apply (ChangePrereqs None (codes "foo") (AddPrereq false (codes "b")))) ∷ on_line 3 (Apply (ChangePrereqs None (codes "foo") (AddPrereq false (codes "b")))) ∷ [], ends (Refused 1) (codes "3: refused 7 Already\n") None) ∷  -- depend-on-a-present-word-is-refused
    (false, 100, codes "foo: a a | a\n", on_line 1 (Apply (ChangePrereqs None (codes "foo") (RemovePrereq (codes "a")))) ∷ on_line 2 (Apply (ChangePrereqs None (codes "foo") (RemovePrereq (codes "a")))) ∷ [], ends (Refused 1) (codes "2: refused 6 Absent\n") None) ∷  -- undepend-of-an-absent-word-is-refused
    (false, 100, codes "X = a # c\n", on_line 1 (Apply (ChangeValue (One None) (codes "X") (edits.Set []))) ∷ on_line 2 (Apply (ChangeValue (One None) (codes "X") (edits.Set (codes "b")))) ∷ [], ends Done [] (Some (codes "X = b# c\n"))) ∷  -- set-after-set-to-nothing-touches-the-comment
    (false, 100, codes "foo:\nifdef A\n\tx\nendif\n", on_line 1 (Apply (RemoveLines (OfRule None (codes "foo")))) ∷ [], ends (Refused 1) (codes "1: refused 10 Straddles\n") None) ∷  -- unrule-across-a-conditional-is-refused
    (false, 100, codes "all:\n\ta \\\n\tb\n\tc\n", on_line 1 (Apply (SetRecipe None (codes "all") (ByNumber 1) (codes "x y"))) ∷ on_line 2 (Apply (RemoveLines (OfRecipe None (codes "all") (ByNumber 2)))) ∷ [], ends Done [] (Some (codes "all:\n\tx y\n"))) ∷  -- recipe-del-of-the-second-line
    (false, 100, codes "all:\n\ta \\\n\tb\n\tc\n", on_line 1 (Apply (SetRecipe None (codes "all") (ByNumber 1) (codes "x y"))) ∷ on_line 2 (Apply (RemoveLines (OfRecipe None (codes "all") (ByNumber 2)))) ∷ on_line 3 (Apply (AddRecipe None (codes "all") Last (codes "z"))) ∷ [], ends Done [] (Some (codes "all:\n\tx y\n\tz\n"))) ∷  -- recipe-goes-last
    (false, 100, codes "all:\n\ta \\\n\tb\n\tc\n", on_line 1 (Apply (SetRecipe None (codes "all") (ByNumber 1) (codes "x y"))) ∷ on_line 2 (Apply (RemoveLines (OfRecipe None (codes "all") (ByNumber 2)))) ∷ on_line 3 (Apply (AddRecipe None (codes "all") Last (codes "z"))) ∷ on_line 4 (Apply (RemoveLines (OfRecipe None (codes "all") (ByNumber 9)))) ∷ [], ends (Refused 1) (codes "4: refused 6 Absent\n") None) ∷  -- recipe-del-of-a-line-beyond-the-last-is-refused
    (false, 100, codes "a b: c\n", on_line 1 (Apply (RemoveLines (OfRule None (codes "a")))) ∷ [], ends (Refused 1) (codes "1: refused 9 SharedRule 2\n") None) ∷  -- unrule-of-a-shared-rule-is-refused
    (false, 100, codes "a: b\nb:\n", on_line 1 (Apply (RenameTarget (codes "a") (codes "b"))) ∷ [], ends (Refused 1) (codes "1: refused 8 Taken\n") None) ∷  -- rename-to-a-present-target-is-refused
    (false, 100, codes "X = a\n", on_line 1 (Apply (ChangeValue (One None) (codes "X") (edits.Append (codes "b")))) ∷ on_line 2 (Apply (ChangeValue (One None) (codes "X") (edits.Append []))) ∷ [], ends (Refused 1) (codes "2: refused 1 BadArgument value\n") None) ∷  -- append-of-nothing-is-refused
    (false, 100, codes "endif\n\tX = 1\n", [], ends Done [] (Some (codes "endif\n\tX = 1\n"))) ∷  -- empty-script-keeps-opaque-lines
    (false, 100, codes "CC = gcc # c\n", on_line 1 (Apply (ChangeValue (One None) (codes "CC") (edits.Set (codes "clang")))) ∷ on_line 2 Undo ∷ [], ends Done [] (Some (codes "CC = gcc # c\n"))) ∷  -- undo-after-set-gives-the-file-back
    (false, 100, codes "X=0\n", on_line 1 Undo ∷ [], ends (Refused 1) (codes "1: refused 16 NothingToUndo\n") None) ∷  -- undo-of-nothing-is-refused
    (false, 100, codes "ifdef A\nendif", on_line 1 (Apply (AddLine Bottom (NewAssign (codes "Y") Recursive (codes "1")))) ∷ on_line 2 Undo ∷ [], ends Done [] (Some (codes "ifdef A\nendif"))) ∷  -- undo-after-an-endif-takes-the-line-end-away
    (false, 100, codes "A=1\0\nB=2\n", on_line 1 (Apply (ChangeValue (One None) (codes "B") (edits.Set (codes "3")))) ∷ on_line 2 (Apply (RemoveLines (OfAssign None (codes "B")))) ∷ [], ends Done [] (Some (codes "A=1\0\n"))) ∷  -- unset-below-a-line-with-a-nul
    (false, 100, codes ".RECIPEPREFIX ?= >\nX = 1\n", on_line 1 (Apply (ChangeValue (One None) (codes "X") (edits.Set (codes "2")))) ∷ [], ends (Refused 1) (codes "1: refused 3 RecipePrefix\n") None) ∷  -- prefix-set-if-absent-refuses-every-edit
    (false, 100, codes "X=0\nY=0\n", on_line 1 Begin ∷ on_line 2 (Apply (ChangeValue (One None) (codes "X") (edits.Set (codes "1")))) ∷ on_line 3 (Apply (ChangeValue (One None) (codes "Y") (edits.Set (codes "1")))) ∷ on_line 4 End ∷ on_line 5 Undo ∷ [], ends Done [] (Some (codes "X=0\nY=0\n"))) ∷  -- undo-takes-a-group-back
    (false, 100, codes "X=0\nY=0\n", on_line 1 Begin ∷ on_line 2 (Apply (ChangeValue (One None) (codes "X") (edits.Set (codes "1")))) ∷ on_line 3 (Apply (ChangeValue (One None) (codes "Y") (edits.Set (codes "1")))) ∷ on_line 4 End ∷ on_line 5 Undo ∷ on_line 6 Redo ∷ [], ends Done [] (Some (codes "X=1\nY=1\n"))) ∷  -- redo-of-a-group
    (true, 100, codes "X=0\n", on_line 1 Begin ∷ on_line 2 Undo ∷ on_line 3 Begin ∷ on_line 4 (Apply (ChangeValue (One None) (codes "X") (edits.Set (codes "1")))) ∷ [], ends (Refused 2) (codes "2: refused 18 GroupOpen\n3: refused 18 GroupOpen\n") (Some (codes "X=1\n"))) ∷  -- undo-and-begin-inside-a-group-are-refused
    (true, 100, codes "X=0\n", on_line 1 End ∷ on_line 2 Cancel ∷ [], ends (Refused 2) (codes "1: refused 19 NoGroup\n2: refused 19 NoGroup\n") (Some (codes "X=0\n"))) ∷  -- end-and-cancel-without-a-group-are-refused
    (true, 1, codes "X=0\n", on_line 1 (Apply (ChangeValue (One None) (codes "X") (edits.Set (codes "1")))) ∷ on_line 2 Begin ∷ on_line 3 (Apply (ChangeValue (One None) (codes "X") (edits.Set (codes "2")))) ∷ on_line 4 (Apply (ChangeValue (One None) (codes "X") (edits.Set (codes "3")))) ∷ on_line 5 End ∷ on_line 6 Undo ∷ on_line 7 Undo ∷ [], ends (Refused 1) (codes "7: refused 16 NothingToUndo\n") (Some (codes "X=1\n"))) ∷  -- group-counts-once-against-the-depth
    (true, 100, codes "X=0\n", on_line 1 (Apply (ChangeValue (One None) (codes "X") (edits.Set (codes "1")))) ∷ on_line 2 Undo ∷ on_line 3 Begin ∷ on_line 4 (Apply (ChangeValue (One None) (codes "X") (edits.Set (codes "2")))) ∷ on_line 5 Cancel ∷ on_line 6 Redo ∷ [], ends (Refused 1) (codes "6: refused 17 NothingToRedo\n") (Some (codes "X=0\n"))) ∷  -- cancel-does-not-bring-redo-back
    (false, 100, codes "X=0\n", on_line 1 (Apply (ChangeValue (One None) (codes "X") (edits.Set (codes "1")))) ∷ on_line 2 Undo ∷ on_line 3 Begin ∷ on_line 4 End ∷ on_line 5 Redo ∷ [], ends Done [] (Some (codes "X=1\n"))) ∷  -- empty-group-keeps-redo
    (true, 100, codes "X=0\n", on_line 1 Begin ∷ on_line 2 (Apply (ChangeValue (One None) (codes "X") (edits.Set (codes "1")))) ∷ on_line 3 (Apply (ChangeValue (One None) (codes "Z") (edits.Set (codes "2")))) ∷ on_line 4 (Apply (ChangeValue (One None) (codes "X") (edits.Set (codes "2")))) ∷ on_line 5 End ∷ on_line 6 Undo ∷ [], ends (Refused 1) (codes "3: refused 4 NoSuch\n") (Some (codes "X=0\n"))) ∷  -- refused-edit-leaves-the-group-open
    (false, 100, codes "A=1\r\nB=2\n", on_line 1 (Apply (RemoveLines (OfAssign None (codes "A")))) ∷ on_line 2 (Apply (AddLine Bottom (NewAssign (codes "C") Recursive (codes "3")))) ∷ [], ends Done [] (Some (codes "B=2\nC = 3\n"))) ∷  -- assign-follows-the-line-end-of-the-text-as-it-stands
    (false, 100, codes "foo: ; x\n", on_line 1 (Apply (RemoveLines (OfRecipe None (codes "foo") (ByNumber 1)))) ∷ [], ends (Refused 1) (codes "1: refused 6 Absent\n") None) ∷  -- inline-recipe-has-no-number
    (false, 100, [], on_line 1 (Apply (AddLine Bottom (NewRule (codes "$&") Single []))) ∷ [], ends (Refused 1) (codes "1: refused 1 BadArgument targets\n") None) ∷  -- target-that-ends-in-an-ampersand-is-refused
    (false, 100, codes "X=1\n", on_line 1 (Apply (AddLine (BeforeVar None []) (NewAssign (codes "Y") Recursive (codes "1")))) ∷ [], ends (Refused 1) (codes "1: refused 1 BadArgument place\n") None) ∷  -- empty-place-is-refused
    (false, 100, codes "F = -O2 -g\n", on_line 1 (Apply (ChangeValue (One None) (codes "F") (edits.Add (codes "-g")))) ∷ [], ends (Refused 1) (codes "1: refused 7 Already\n") None) ∷  -- add-of-a-word-that-is-there-is-refused
    (false, 100, codes "F = x\n", on_line 1 (Apply (ChangeValue (One None) (codes "F") (edits.Add (codes "a b")))) ∷ [], ends (Refused 1) (codes "1: refused 1 BadArgument word\n") None) ∷  -- add-of-two-words-is-refused
    (false, 100, codes "c:\n\ta\n", on_line 1 (Apply (SetRecipe None (codes "c") (ByText (codes "a\\")) (codes "x"))) ∷ [], ends (Refused 1) (codes "1: refused 1 BadArgument old\n") None) ∷  -- recipe-replace-tests-the-old-text
    (true, 100, codes "X = 1\nX = 2\n", on_line 1 (Apply (ChangeValue Every (codes "X") (edits.Set (codes "1")))) ∷ on_line 2 Undo ∷ on_line 3 Undo ∷ [], ends (Refused 1) (codes "3: refused 16 NothingToUndo\n") (Some (codes "X = 1\nX = 2\n"))) ∷  -- all-set-of-the-value-that-is-there
    (true, 100, codes "F = 1\nF = 2\n", on_line 1 (Apply (ChangeValue Every (codes "F") (edits.Set (codes "a ")))) ∷ on_line 2 (Apply (ChangeValue Every (codes "F") (edits.Append []))) ∷ on_line 3 (Apply (ChangeValue Every (codes "F") (edits.Add (codes "a b")))) ∷ on_line 4 (Apply (ChangeValue Every (codes "$(F)") (edits.Remove (codes "a")))) ∷ [], ends (Refused 4) (codes "1: refused 1 BadArgument value\n2: refused 1 BadArgument value\n3: refused 1 BadArgument word\n4: refused 1 BadArgument name\n") (Some (codes "F = 1\nF = 2\n"))) ∷  -- all-tests-its-fields
    (false, 100, codes "X = 1\nX = 2\nX = 3\n", on_line 1 (Apply (ChangeValue Every (codes "X") (edits.Set (codes "9")))) ∷ on_line 2 Undo ∷ on_line 3 Redo ∷ on_line 4 (Apply (ChangeValue Every (codes "X") (edits.Append (codes "8")))) ∷ on_line 5 Undo ∷ [], ends Done [] (Some (codes "X = 9\nX = 9\nX = 9\n"))) ∷  -- all-is-one-edit-for-undo-and-redo
    []

answers_1 : map (λ row. came_to row.0 row.1 row.2 row.3) rows_1 ≡ map (λ row. row.4) rows_1
unfolding digits
answers_1 = refl

abbrev rows_2 : List (Bool × ℕ × List ℕ × List Step × RunResult)
rows_2 =
    (true, 1, codes "X = 1\nX = 2\n", on_line 1 (Apply (ChangeValue Every (codes "X") (edits.Set (codes "3")))) ∷ on_line 2 (Apply (ChangeValue Every (codes "X") (edits.Set (codes "4")))) ∷ on_line 3 Undo ∷ on_line 4 Undo ∷ [], ends (Refused 1) (codes "4: refused 16 NothingToUndo\n") (Some (codes "X = 3\nX = 3\n"))) ∷  -- all-is-one-edit-of-the-depth
    (false, 100, codes "X = 1\nX = 2\nY = 1\n", on_line 1 Begin ∷ on_line 2 (Apply (ChangeValue Every (codes "X") (edits.Set (codes "3")))) ∷ on_line 3 (Apply (ChangeValue (One None) (codes "Y") (edits.Set (codes "2")))) ∷ on_line 4 Cancel ∷ on_line 5 (Apply (ChangeValue Every (codes "X") (edits.Set (codes "4")))) ∷ [], ends Done [] (Some (codes "X = 4\nX = 4\nY = 1\n"))) ∷  -- all-in-a-group
    (false, 100, codes "X = 1\nX = 2\n", on_line 1 (Apply (ChangeValue (One (Some 2)) (codes "X") (edits.Set (codes "3")))) ∷ on_line 2 (Apply (ChangeValue Every (codes "X") (edits.Append (codes "a")))) ∷ on_line 3 (Apply (RemoveLines (OfAssign (Some 1) (codes "X")))) ∷ on_line 4 (Apply (ChangeValue Every (codes "X") (edits.Set (codes "4")))) ∷ [], ends Done [] (Some (codes "X = 4\n"))) ∷  -- all-and-the-edit-of-one-of-the-lines
    []

answers_2 : map (λ row. came_to row.0 row.1 row.2 row.3) rows_2 ≡ map (λ row. row.4) rows_2
unfolding digits
answers_2 = refl
