-- Scripts and what they mean. Made by `tests/definitions/script_rows.py tests/cases/runs.tsv`.
use Rattle.std.proofs.Common.{◌≡◌, refl, ℕ, true, false, List, [], ◌∷◌, map, Some, None}
use Rattle.std.specs.Prelude.{codes, Result, Ok, Err}
use Rattle.bstr.specs.Text.{line_len, lines_from}
use Rattle.mk_class.specs.declared.assignment.Flavor.TheVariants.{Recursive, Simple}
use Rattle.mk_edit_language.specs.declared.edit.RuleSeparator.TheVariants.{Single, Double}
use Rattle.mk_edit_language.specs.Edits.{Bottom, BeforeVar, AfterVar, BeforeRule}
use Rattle.mk_edit_language.specs.Edits.{One, Every, NewAssign, NewRule, AddPrereq, RemovePrereq, ByNumber, ByText, Last, At, OfAssign, OfRule, OfRecipe, ChangeValue, ChangePrereqs, AddLine, AddRecipe, SetRecipe, RemoveLines, RenameTarget}
use Rattle.mk_edit_language.specs.Edits as edits
use Rattle.mk_history.specs.Machine.{Apply, Undo, Redo, Begin, End, Cancel}
use Rattle.mk_script.specs.Scripts.{Step}
use Rattle.mk_rows.proofs.scripts.ScriptReader.{on_line, read_script}

abbrev rows_1 : List (List ℕ × Result (List Step) ℕ)
rows_1 =
    ([], Ok []) ∷  -- empty-script-on-an-empty-file
    (codes "set CC clang", Ok (on_line 1 (Apply (ChangeValue (One None) (codes "CC") (edits.Set (codes "clang")))) ∷ [])) ∷  -- set-keeps-the-comment
    (codes "set F \"x y\"", Ok (on_line 1 (Apply (ChangeValue (One None) (codes "F") (edits.Set (codes "x y")))) ∷ [])) ∷  -- set-replaces-a-folded-value
    (codes "set F \"x y\"\nundo", Ok (on_line 1 (Apply (ChangeValue (One None) (codes "F") (edits.Set (codes "x y")))) ∷ on_line 2 Undo ∷ [])) ∷  -- undo-brings-the-fold-back
    (codes "set F \"x y\"\nundo\nredo", Ok (on_line 1 (Apply (ChangeValue (One None) (codes "F") (edits.Set (codes "x y")))) ∷ on_line 2 Undo ∷ on_line 3 Redo ∷ [])) ∷  -- redo-replaces-the-fold-again
    (codes "assign bottom Y := 2", Ok (on_line 1 (Apply (AddLine Bottom (NewAssign (codes "Y") Simple (codes "2")))) ∷ [])) ∷  -- assign-adds-the-missing-line-end
    (codes "assign bottom Y := 2\nundo", Ok (on_line 1 (Apply (AddLine Bottom (NewAssign (codes "Y") Simple (codes "2")))) ∷ on_line 2 Undo ∷ [])) ∷  -- undo-takes-the-added-line-end-away
    (codes "assign bottom Y = 1", Ok (on_line 1 (Apply (AddLine Bottom (NewAssign (codes "Y") Recursive (codes "1")))) ∷ [])) ∷  -- assign-after-an-open-line-is-refused
    (codes "undepend foo b", Ok (on_line 1 (Apply (ChangePrereqs None (codes "foo") (RemovePrereq (codes "b")))) ∷ [])) ∷  -- undepend-keeps-the-comment-and-the-recipe
    (codes "unset X", Ok (on_line 1 (Apply (RemoveLines (OfAssign None (codes "X")))) ∷ [])) ∷  -- unset-above-a-tab-led-line-is-refused
    (codes "set CC z", Ok (on_line 1 (Apply (ChangeValue (One None) (codes "CC") (edits.Set (codes "z")))) ∷ [])) ∷  -- set-of-one-of-two-assignments-is-ambiguous
    (codes "nth 2 set CC z", Ok (on_line 1 (Apply (ChangeValue (One (Some 2)) (codes "CC") (edits.Set (codes "z")))) ∷ [])) ∷  -- nth-picks-the-second-assignment
    (codes "rename clean tidy", Ok (on_line 1 (Apply (RenameTarget (codes "clean") (codes "tidy"))) ∷ [])) ∷  -- rename-leaves-the-recipe-text
    (codes "set X 1\nset X 2\nset X 3\nundo\nundo\nundo", Ok (on_line 1 (Apply (ChangeValue (One None) (codes "X") (edits.Set (codes "1")))) ∷ on_line 2 (Apply (ChangeValue (One None) (codes "X") (edits.Set (codes "2")))) ∷ on_line 3 (Apply (ChangeValue (One None) (codes "X") (edits.Set (codes "3")))) ∷ on_line 4 Undo ∷ on_line 5 Undo ∷ on_line 6 Undo ∷ [])) ∷  -- undo-stops-at-the-depth
    (codes "set X 1\nundo\nset X 2\nredo", Ok (on_line 1 (Apply (ChangeValue (One None) (codes "X") (edits.Set (codes "1")))) ∷ on_line 2 Undo ∷ on_line 3 (Apply (ChangeValue (One None) (codes "X") (edits.Set (codes "2")))) ∷ on_line 4 Redo ∷ [])) ∷  -- set-after-undo-empties-redo
    (codes "append X \"${)#}\"", Ok (on_line 1 (Apply (ChangeValue (One None) (codes "X") (edits.Append (codes "${)#}")))) ∷ [])) ∷  -- append-to-an-open-reference-is-refused
    (codes "set X 2", Ok (on_line 1 (Apply (ChangeValue (One None) (codes "X") (edits.Set (codes "2")))) ∷ [])) ∷  -- set-inside-a-define-finds-nothing
    (codes "assign bottom B = 2", Ok (on_line 1 (Apply (AddLine Bottom (NewAssign (codes "B") Recursive (codes "2")))) ∷ [])) ∷  -- assign-follows-crlf
    (codes "set Z 2", Ok (on_line 1 (Apply (ChangeValue (One None) (codes "Z") (edits.Set (codes "2")))) ∷ [])) ∷  -- set-below-an-opaque-line-finds-nothing
    (codes "set X \"a #b\"", Ok (on_line 1 (Apply (ChangeValue (One None) (codes "X") (edits.Set (codes "a #b")))) ∷ [])) ∷  -- set-value-with-a-comment-sign-is-refused
    (codes "set X \"a$(p #)b\"", Ok (on_line 1 (Apply (ChangeValue (One None) (codes "X") (edits.Set (codes "a$(p #)b")))) ∷ [])) ∷  -- set-value-with-a-comment-sign-inside-a-reference
    (codes "rename all include", Ok (on_line 1 (Apply (RenameTarget (codes "all") (codes "include"))) ∷ [])) ∷  -- rename-to-a-directive-word-is-refused
    (codes "recipe foo ls", Ok (on_line 1 (Apply (AddRecipe None (codes "foo") Last (codes "ls"))) ∷ [])) ∷  -- recipe-begins-with-the-recipe-prefix
    (codes "depend foo c", Ok (on_line 1 (Apply (ChangePrereqs None (codes "foo") (AddPrereq false (codes "c")))) ∷ [])) ∷  -- depend-goes-before-the-order-only-bar
    (codes "depend-order foo d", Ok (on_line 1 (Apply (ChangePrereqs None (codes "foo") (AddPrereq true (codes "d")))) ∷ [])) ∷  -- depend-order-writes-the-bar
    (codes "depend-order foo d\ndepend foo b", Ok (on_line 1 (Apply (ChangePrereqs None (codes "foo") (AddPrereq true (codes "d")))) ∷ on_line 2 (Apply (ChangePrereqs None (codes "foo") (AddPrereq false (codes "b")))) ∷ [])) ∷  -- depend-after-depend-order
    (codes "depend-order foo d\ndepend foo b\ndepend foo b", Ok (on_line 1 (Apply (ChangePrereqs None (codes "foo") (AddPrereq true (codes "d")))) ∷ on_line 2 (Apply (ChangePrereqs None (codes "foo") (AddPrereq false (codes "b")))) ∷ on_line 3 (Apply (ChangePrereqs None (codes "foo") (AddPrereq false (codes "b")))) ∷ [])) ∷  -- depend-on-a-present-word-is-refused
    (codes "undepend foo a", Ok (on_line 1 (Apply (ChangePrereqs None (codes "foo") (RemovePrereq (codes "a")))) ∷ [])) ∷  -- undepend-removes-every-equal-word
    (codes "undepend foo a\nundepend foo a", Ok (on_line 1 (Apply (ChangePrereqs None (codes "foo") (RemovePrereq (codes "a")))) ∷ on_line 2 (Apply (ChangePrereqs None (codes "foo") (RemovePrereq (codes "a")))) ∷ [])) ∷  -- undepend-of-an-absent-word-is-refused
    (codes "depend-order a c", Ok (on_line 1 (Apply (ChangePrereqs None (codes "a") (AddPrereq true (codes "c")))) ∷ [])) ∷  -- depend-order-of-a-rough-line-finds-nothing
    (codes "set X \"\"", Ok (on_line 1 (Apply (ChangeValue (One None) (codes "X") (edits.Set []))) ∷ [])) ∷  -- set-to-nothing-keeps-the-comment
    (codes "set X \"\"\nset X b", Ok (on_line 1 (Apply (ChangeValue (One None) (codes "X") (edits.Set []))) ∷ on_line 2 (Apply (ChangeValue (One None) (codes "X") (edits.Set (codes "b")))) ∷ [])) ∷  -- set-after-set-to-nothing-touches-the-comment
    (codes "unrule foo", Ok (on_line 1 (Apply (RemoveLines (OfRule None (codes "foo")))) ∷ [])) ∷  -- unrule-across-a-conditional-is-refused
    (codes "recipe foo y", Ok (on_line 1 (Apply (AddRecipe None (codes "foo") Last (codes "y"))) ∷ [])) ∷  -- recipe-across-a-conditional-is-refused
    (codes "recipe-del foo 1", Ok (on_line 1 (Apply (RemoveLines (OfRecipe None (codes "foo") (ByNumber 1)))) ∷ [])) ∷  -- recipe-del-inside-a-conditional
    (codes "recipe-set all 1 \"x y\"", Ok (on_line 1 (Apply (SetRecipe None (codes "all") (ByNumber 1) (codes "x y"))) ∷ [])) ∷  -- recipe-set-replaces-a-folded-line
    (codes "recipe-set all 1 \"x y\"\nrecipe-del all 2", Ok (on_line 1 (Apply (SetRecipe None (codes "all") (ByNumber 1) (codes "x y"))) ∷ on_line 2 (Apply (RemoveLines (OfRecipe None (codes "all") (ByNumber 2)))) ∷ [])) ∷  -- recipe-del-of-the-second-line
    (codes "recipe-set all 1 \"x y\"\nrecipe-del all 2\nrecipe all z", Ok (on_line 1 (Apply (SetRecipe None (codes "all") (ByNumber 1) (codes "x y"))) ∷ on_line 2 (Apply (RemoveLines (OfRecipe None (codes "all") (ByNumber 2)))) ∷ on_line 3 (Apply (AddRecipe None (codes "all") Last (codes "z"))) ∷ [])) ∷  -- recipe-goes-last
    (codes "recipe-set all 1 \"x y\"\nrecipe-del all 2\nrecipe all z\nrecipe-del all 9", Ok (on_line 1 (Apply (SetRecipe None (codes "all") (ByNumber 1) (codes "x y"))) ∷ on_line 2 (Apply (RemoveLines (OfRecipe None (codes "all") (ByNumber 2)))) ∷ on_line 3 (Apply (AddRecipe None (codes "all") Last (codes "z"))) ∷ on_line 4 (Apply (RemoveLines (OfRecipe None (codes "all") (ByNumber 9)))) ∷ [])) ∷  -- recipe-del-of-a-line-beyond-the-last-is-refused
    (codes "unrule c", Ok (on_line 1 (Apply (RemoveLines (OfRule None (codes "c")))) ∷ [])) ∷  -- unrule-takes-blank-and-comment-lines-between-recipes
    (codes "unrule a", Ok (on_line 1 (Apply (RemoveLines (OfRule None (codes "a")))) ∷ [])) ∷  -- unrule-of-a-shared-rule-is-refused
    (codes "rule bottom \"a b\" :: \"$(subst x y,z,w) c\"", Ok (on_line 1 (Apply (AddLine Bottom (NewRule (codes "a b") Double (codes "$(subst x y,z,w) c")))) ∷ [])) ∷  -- rule-with-two-targets-and-a-reference
    (codes "rule after-var A t : \"\"", Ok (on_line 1 (Apply (AddLine (AfterVar None (codes "A")) (NewRule (codes "t") Single []))) ∷ [])) ∷  -- rule-above-a-tab-led-line-is-refused
    (codes "assign after-var A C = 3", Ok (on_line 1 (Apply (AddLine (AfterVar None (codes "A")) (NewAssign (codes "C") Recursive (codes "3")))) ∷ [])) ∷  -- assign-above-a-tab-led-line
    (codes "rename a b", Ok (on_line 1 (Apply (RenameTarget (codes "a") (codes "b"))) ∷ [])) ∷  -- rename-to-a-present-target-is-refused
    (codes "rename c d", Ok (on_line 1 (Apply (RenameTarget (codes "c") (codes "d"))) ∷ [])) ∷  -- rename-of-no-target-is-refused
    (codes "rename b d", Ok (on_line 1 (Apply (RenameTarget (codes "b") (codes "d"))) ∷ [])) ∷  -- rename-of-a-target-and-a-prerequisite
    (codes "# c\n\nset X\n", Err 3) ∷  -- bad-script-line-on-an-empty-file
    (codes "append X b", Ok (on_line 1 (Apply (ChangeValue (One None) (codes "X") (edits.Append (codes "b")))) ∷ [])) ∷  -- append-writes-a-space
    (codes "append X b\nappend X \"\"", Ok (on_line 1 (Apply (ChangeValue (One None) (codes "X") (edits.Append (codes "b")))) ∷ on_line 2 (Apply (ChangeValue (One None) (codes "X") (edits.Append []))) ∷ [])) ∷  -- append-of-nothing-is-refused
    []

answers_1 : map (λ row. read_script row.0) rows_1 ≡ map (λ row. row.1) rows_1
unfolding line_len lines_from
answers_1 = refl

abbrev rows_2 : List (List ℕ × Result (List Step) ℕ)
rows_2 =
    (codes "set ifdef y", Ok (on_line 1 (Apply (ChangeValue (One None) (codes "ifdef") (edits.Set (codes "y")))) ∷ [])) ∷  -- set-of-a-variable-named-ifdef
    (codes "nth 2 set X 3", Ok (on_line 1 (Apply (ChangeValue (One (Some 2)) (codes "X") (edits.Set (codes "3")))) ∷ [])) ∷  -- nth-beyond-the-last-finds-nothing
    (codes "nth 0 set X 3", Ok (on_line 1 (Apply (ChangeValue (One (Some 0)) (codes "X") (edits.Set (codes "3")))) ∷ [])) ∷  -- nth-zero-finds-nothing
    (codes "assign before-rule all V = 1", Ok (on_line 1 (Apply (AddLine (BeforeRule None (codes "all")) (NewAssign (codes "V") Recursive (codes "1")))) ∷ [])) ∷  -- assign-before-a-rule
    (codes "set CC clang\nundo", Ok (on_line 1 (Apply (ChangeValue (One None) (codes "CC") (edits.Set (codes "clang")))) ∷ on_line 2 Undo ∷ [])) ∷  -- undo-after-set-gives-the-file-back
    (codes "undo", Ok (on_line 1 Undo ∷ [])) ∷  -- undo-of-nothing-is-refused
    (codes "assign bottom Y = 1\nundo", Ok (on_line 1 (Apply (AddLine Bottom (NewAssign (codes "Y") Recursive (codes "1")))) ∷ on_line 2 Undo ∷ [])) ∷  -- undo-after-an-endif-takes-the-line-end-away
    (codes "set B 3", Ok (on_line 1 (Apply (ChangeValue (One None) (codes "B") (edits.Set (codes "3")))) ∷ [])) ∷  -- set-below-a-line-with-a-nul
    (codes "set B 3\nunset B", Ok (on_line 1 (Apply (ChangeValue (One None) (codes "B") (edits.Set (codes "3")))) ∷ on_line 2 (Apply (RemoveLines (OfAssign None (codes "B")))) ∷ [])) ∷  -- unset-below-a-line-with-a-nul
    (codes "assign bottom C = 3", Ok (on_line 1 (Apply (AddLine Bottom (NewAssign (codes "C") Recursive (codes "3")))) ∷ [])) ∷  -- assign-follows-the-first-line-end
    (codes "set B 4", Ok (on_line 1 (Apply (ChangeValue (One None) (codes "B") (edits.Set (codes "4")))) ∷ [])) ∷  -- set-keeps-crlf
    (codes "recipe bar c", Ok (on_line 1 (Apply (AddRecipe None (codes "bar") Last (codes "c"))) ∷ [])) ∷  -- recipe-below-a-prefix-that-is-reset
    (codes "recipe foo d", Ok (on_line 1 (Apply (AddRecipe None (codes "foo") Last (codes "d"))) ∷ [])) ∷  -- recipe-above-a-prefix-that-is-reset
    (codes "assign bottom X = 2", Ok (on_line 1 (Apply (AddLine Bottom (NewAssign (codes "X") Recursive (codes "2")))) ∷ [])) ∷  -- assign-that-would-begin-with-the-prefix-is-refused
    (codes "assign before-var B X = 2", Ok (on_line 1 (Apply (AddLine (BeforeVar None (codes "B")) (NewAssign (codes "X") Recursive (codes "2")))) ∷ [])) ∷  -- no-such-place-comes-before-the-prefix
    (codes "assign bottom Y = 2", Ok (on_line 1 (Apply (AddLine Bottom (NewAssign (codes "Y") Recursive (codes "2")))) ∷ [])) ∷  -- assign-that-does-not-begin-with-the-prefix
    (codes "rename all tidy", Ok (on_line 1 (Apply (RenameTarget (codes "all") (codes "tidy"))) ∷ [])) ∷  -- rename-that-would-begin-with-the-prefix-is-refused
    (codes "rename all new", Ok (on_line 1 (Apply (RenameTarget (codes "all") (codes "new"))) ∷ [])) ∷  -- rename-that-does-not-begin-with-the-prefix
    (codes "set .RECIPEPREFIX x", Ok (on_line 1 (Apply (ChangeValue (One None) (codes ".RECIPEPREFIX") (edits.Set (codes "x")))) ∷ [])) ∷  -- set-of-the-prefix-is-refused
    (codes "begin\nset X 1\nset Y 1\nend\nundo", Ok (on_line 1 Begin ∷ on_line 2 (Apply (ChangeValue (One None) (codes "X") (edits.Set (codes "1")))) ∷ on_line 3 (Apply (ChangeValue (One None) (codes "Y") (edits.Set (codes "1")))) ∷ on_line 4 End ∷ on_line 5 Undo ∷ [])) ∷  -- undo-takes-a-group-back
    (codes "begin\nset X 1\nset Y 1\nend\nundo\nredo", Ok (on_line 1 Begin ∷ on_line 2 (Apply (ChangeValue (One None) (codes "X") (edits.Set (codes "1")))) ∷ on_line 3 (Apply (ChangeValue (One None) (codes "Y") (edits.Set (codes "1")))) ∷ on_line 4 End ∷ on_line 5 Undo ∷ on_line 6 Redo ∷ [])) ∷  -- redo-of-a-group
    (codes "begin\nundo\nbegin\nset X 1", Ok (on_line 1 Begin ∷ on_line 2 Undo ∷ on_line 3 Begin ∷ on_line 4 (Apply (ChangeValue (One None) (codes "X") (edits.Set (codes "1")))) ∷ [])) ∷  -- undo-and-begin-inside-a-group-are-refused
    (codes "end\ncancel", Ok (on_line 1 End ∷ on_line 2 Cancel ∷ [])) ∷  -- end-and-cancel-without-a-group-are-refused
    (codes "set X 1\nbegin\nset X 2\nset X 3\nend\nundo\nundo", Ok (on_line 1 (Apply (ChangeValue (One None) (codes "X") (edits.Set (codes "1")))) ∷ on_line 2 Begin ∷ on_line 3 (Apply (ChangeValue (One None) (codes "X") (edits.Set (codes "2")))) ∷ on_line 4 (Apply (ChangeValue (One None) (codes "X") (edits.Set (codes "3")))) ∷ on_line 5 End ∷ on_line 6 Undo ∷ on_line 7 Undo ∷ [])) ∷  -- group-counts-once-against-the-depth
    (codes "set X 1\nundo\nbegin\nset X 2\ncancel\nredo", Ok (on_line 1 (Apply (ChangeValue (One None) (codes "X") (edits.Set (codes "1")))) ∷ on_line 2 Undo ∷ on_line 3 Begin ∷ on_line 4 (Apply (ChangeValue (One None) (codes "X") (edits.Set (codes "2")))) ∷ on_line 5 Cancel ∷ on_line 6 Redo ∷ [])) ∷  -- cancel-does-not-bring-redo-back
    (codes "set X 1\nundo\nbegin\nend\nredo", Ok (on_line 1 (Apply (ChangeValue (One None) (codes "X") (edits.Set (codes "1")))) ∷ on_line 2 Undo ∷ on_line 3 Begin ∷ on_line 4 End ∷ on_line 5 Redo ∷ [])) ∷  -- empty-group-keeps-redo
    (codes "begin\nset X 1\nset Z 2\nset X 2\nend\nundo", Ok (on_line 1 Begin ∷ on_line 2 (Apply (ChangeValue (One None) (codes "X") (edits.Set (codes "1")))) ∷ on_line 3 (Apply (ChangeValue (One None) (codes "Z") (edits.Set (codes "2")))) ∷ on_line 4 (Apply (ChangeValue (One None) (codes "X") (edits.Set (codes "2")))) ∷ on_line 5 End ∷ on_line 6 Undo ∷ [])) ∷  -- refused-edit-leaves-the-group-open
    (codes "set X b", Ok (on_line 1 (Apply (ChangeValue (One None) (codes "X") (edits.Set (codes "b")))) ∷ [])) ∷  -- set-of-a-value-that-is-a-lone-backslash
    (codes "unset A\nassign bottom C = 3", Ok (on_line 1 (Apply (RemoveLines (OfAssign None (codes "A")))) ∷ on_line 2 (Apply (AddLine Bottom (NewAssign (codes "C") Recursive (codes "3")))) ∷ [])) ∷  -- assign-follows-the-line-end-of-the-text-as-it-stands
    (codes "set X c", Ok (on_line 1 (Apply (ChangeValue (One None) (codes "X") (edits.Set (codes "c")))) ∷ [])) ∷  -- set-of-a-value-with-a-dollar-and-a-comment-sign
    (codes "assign bottom t = 1", Ok (on_line 1 (Apply (AddLine Bottom (NewAssign (codes "t") Recursive (codes "1")))) ∷ [])) ∷  -- prefix-comes-before-an-open-line
    (codes "assign bottom .RECIPEPREFIX = \"a #\"", Ok (on_line 1 (Apply (AddLine Bottom (NewAssign (codes ".RECIPEPREFIX") Recursive (codes "a #")))) ∷ [])) ∷  -- bad-value-comes-before-a-reserved-name
    (codes "rename include y", Ok (on_line 1 (Apply (RenameTarget (codes "include") (codes "y"))) ∷ [])) ∷  -- rename-of-a-directive-word-is-refused
    (codes "depend include y", Ok (on_line 1 (Apply (ChangePrereqs None (codes "include") (AddPrereq false (codes "y")))) ∷ [])) ∷  -- depend-of-a-directive-word-is-refused
    (codes "depend a include", Ok (on_line 1 (Apply (ChangePrereqs None (codes "a") (AddPrereq false (codes "include")))) ∷ [])) ∷  -- depend-on-a-directive-word
    (codes "rename a a", Ok (on_line 1 (Apply (RenameTarget (codes "a") (codes "a"))) ∷ [])) ∷  -- rename-to-itself-is-refused
    (codes "depend a b", Ok (on_line 1 (Apply (ChangePrereqs None (codes "a") (AddPrereq false (codes "b")))) ∷ [])) ∷  -- depend-of-a-target-assignment-finds-nothing
    (codes "rule bottom \"$&\" : \"\"", Ok (on_line 1 (Apply (AddLine Bottom (NewRule (codes "$&") Single []))) ∷ [])) ∷  -- target-that-ends-in-an-ampersand-is-refused
    (codes "assign before-var \"\" Y = 1", Ok (on_line 1 (Apply (AddLine (BeforeVar None []) (NewAssign (codes "Y") Recursive (codes "1")))) ∷ [])) ∷  -- empty-place-is-refused
    (codes "rule bottom \" \" : \"\"", Ok (on_line 1 (Apply (AddLine Bottom (NewRule (codes " ") Single []))) ∷ [])) ∷  -- rule-without-a-target-is-refused
    (codes "rule bottom a : \"b\tc \"", Ok (on_line 1 (Apply (AddLine Bottom (NewRule (codes "a") Single (codes "b\tc ")))) ∷ [])) ∷  -- rule-joins-prerequisites-by-one-space
    (codes "undepend a b", Ok (on_line 1 (Apply (ChangePrereqs None (codes "a") (RemovePrereq (codes "b")))) ∷ [])) ∷  -- undepend-keeps-the-fold-after-the-last-word
    (codes "undepend a p", Ok (on_line 1 (Apply (ChangePrereqs None (codes "a") (RemovePrereq (codes "p")))) ∷ [])) ∷  -- pattern-is-no-prerequisite
    (codes "depend-order a b", Ok (on_line 1 (Apply (ChangePrereqs None (codes "a") (AddPrereq true (codes "b")))) ∷ [])) ∷  -- depend-order-before-a-glued-comment
    (codes "depend a c", Ok (on_line 1 (Apply (ChangePrereqs None (codes "a") (AddPrereq false (codes "c")))) ∷ [])) ∷  -- depend-before-a-fold-and-a-bar
    (codes "rename \"$(a b)\" c", Ok (on_line 1 (Apply (RenameTarget (codes "$(a b)") (codes "c"))) ∷ [])) ∷  -- rename-of-a-reference-with-a-fold
    (codes "\"set\" X 2", Ok (on_line 1 (Apply (ChangeValue (One None) (codes "X") (edits.Set (codes "2")))) ∷ [])) ∷  -- quoted-command-word
    (codes "nth \"1\" set X 2", Ok (on_line 1 (Apply (ChangeValue (One (Some 1)) (codes "X") (edits.Set (codes "2")))) ∷ [])) ∷  -- quoted-number
    (codes "assign \"bottom\" Y \"=\" 1", Ok (on_line 1 (Apply (AddLine Bottom (NewAssign (codes "Y") Recursive (codes "1")))) ∷ [])) ∷  -- quoted-place-and-operator
    (codes "nth 0000000001 set X 2", Ok (on_line 1 (Apply (ChangeValue (One (Some 1)) (codes "X") (edits.Set (codes "2")))) ∷ [])) ∷  -- number-of-ten-digits
    []

answers_2 : map (λ row. read_script row.0) rows_2 ≡ map (λ row. row.1) rows_2
unfolding line_len lines_from
answers_2 = refl

abbrev rows_3 : List (List ℕ × Result (List Step) ℕ)
rows_3 =
    (codes "nth 00000000001 set X 2", Err 1) ∷  -- number-of-eleven-digits-is-no-command
    (codes " # x", Err 1) ∷  -- blank-before-a-script-comment-is-no-command
    (codes "set X 1\r", Ok (on_line 1 (Apply (ChangeValue (One None) (codes "X") (edits.Set (codes "1\r")))) ∷ [])) ∷  -- script-without-line-end-that-ends-in-cr
    (codes "set X \"1\"\r", Err 1) ∷  -- cr-after-a-quoted-field-is-no-command
    (codes "set X a\"b", Ok (on_line 1 (Apply (ChangeValue (One None) (codes "X") (edits.Set (codes "a\"b")))) ∷ [])) ∷  -- quote-inside-a-bare-field
    (codes "set X \"\\a\"", Err 1) ∷  -- unknown-escape-is-no-command
    (codes "nth 1 assign bottom Y = 1", Err 1) ∷  -- nth-before-bottom-is-no-command
    (codes "nth 1 assign after-var X Y = 1", Ok (on_line 1 (Apply (AddLine (AfterVar (Some 1) (codes "X")) (NewAssign (codes "Y") Recursive (codes "1")))) ∷ [])) ∷  -- nth-before-a-place
    (codes "nth 1 nth 1 set X 1", Err 1) ∷  -- nth-twice-is-no-command
    (codes "recipe-del a 0", Ok (on_line 1 (Apply (RemoveLines (OfRecipe None (codes "a") (ByNumber 0)))) ∷ [])) ∷  -- recipe-line-zero-is-refused
    (codes "add F -g", Ok (on_line 1 (Apply (ChangeValue (One None) (codes "F") (edits.Add (codes "-g")))) ∷ [])) ∷  -- add-puts-a-word-after-the-value
    (codes "add F \"a b\"", Ok (on_line 1 (Apply (ChangeValue (One None) (codes "F") (edits.Add (codes "a b")))) ∷ [])) ∷  -- add-of-two-words-is-refused
    (codes "add F b", Ok (on_line 1 (Apply (ChangeValue (One None) (codes "F") (edits.Add (codes "b")))) ∷ [])) ∷  -- add-after-a-dollar-and-a-fold-is-refused
    (codes "drop F -g", Ok (on_line 1 (Apply (ChangeValue (One None) (codes "F") (edits.Remove (codes "-g")))) ∷ [])) ∷  -- drop-takes-each-such-word
    (codes "drop F -Werror", Ok (on_line 1 (Apply (ChangeValue (One None) (codes "F") (edits.Remove (codes "-Werror")))) ∷ [])) ∷  -- drop-takes-the-fold-before-a-word
    (codes "drop F z", Ok (on_line 1 (Apply (ChangeValue (One None) (codes "F") (edits.Remove (codes "z")))) ∷ [])) ∷  -- drop-after-backslashes-is-refused
    (codes "drop F \"a b\"", Ok (on_line 1 (Apply (ChangeValue (One None) (codes "F") (edits.Remove (codes "a b")))) ∷ [])) ∷  -- drop-of-two-words-is-refused
    (codes "recipe-insert c 2 x", Ok (on_line 1 (Apply (AddRecipe None (codes "c") (At 2) (codes "x"))) ∷ [])) ∷  -- recipe-insert-between-two-lines
    (codes "recipe-insert c 1 x", Ok (on_line 1 (Apply (AddRecipe None (codes "c") (At 1) (codes "x"))) ∷ [])) ∷  -- recipe-insert-into-a-rule-without-a-recipe
    (codes "recipe-insert c 3 x", Ok (on_line 1 (Apply (AddRecipe None (codes "c") (At 3) (codes "x"))) ∷ [])) ∷  -- recipe-insert-two-below-the-last-is-refused
    (codes "recipe-insert a 0 y", Ok (on_line 1 (Apply (AddRecipe None (codes "a") (At 0) (codes "y"))) ∷ [])) ∷  -- recipe-insert-at-zero-is-refused
    (codes "recipe-insert foo 1 y", Ok (on_line 1 (Apply (AddRecipe None (codes "foo") (At 1) (codes "y"))) ∷ [])) ∷  -- recipe-insert-across-a-conditional-is-refused
    (codes "recipe-insert foo 3 y", Ok (on_line 1 (Apply (AddRecipe None (codes "foo") (At 3) (codes "y"))) ∷ [])) ∷  -- recipe-insert-tells-a-bad-number-before-a-conditional
    (codes "recipe-insert bar 1 c", Ok (on_line 1 (Apply (AddRecipe None (codes "bar") (At 1) (codes "c"))) ∷ [])) ∷  -- recipe-insert-below-a-prefix-that-is-reset
    (codes "recipe-insert foo 2 y", Ok (on_line 1 (Apply (AddRecipe None (codes "foo") (At 2) (codes "y"))) ∷ [])) ∷  -- recipe-insert-after-an-open-line-is-refused
    (codes "recipe-replace c \"rm -f x\" \"rm -rf x\"", Ok (on_line 1 (Apply (SetRecipe None (codes "c") (ByText (codes "rm -f x")) (codes "rm -rf x"))) ∷ [])) ∷  -- recipe-replace-by-the-text
    (codes "recipe-remove c true", Ok (on_line 1 (Apply (RemoveLines (OfRecipe None (codes "c") (ByText (codes "true"))))) ∷ [])) ∷  -- recipe-remove-of-a-text-that-stands-twice-is-refused
    (codes "recipe-remove c false", Ok (on_line 1 (Apply (RemoveLines (OfRecipe None (codes "c") (ByText (codes "false"))))) ∷ [])) ∷  -- recipe-remove-of-a-text-that-is-not-there-is-refused
    (codes "recipe-remove c ls", Ok (on_line 1 (Apply (RemoveLines (OfRecipe None (codes "c") (ByText (codes "ls"))))) ∷ [])) ∷  -- recipe-remove-by-the-text
    (codes "recipe-replace d a x", Ok (on_line 1 (Apply (SetRecipe None (codes "d") (ByText (codes "a")) (codes "x"))) ∷ [])) ∷  -- recipe-replace-looks-at-the-meant-rule-alone
    (codes "recipe-replace c \"a b\" x", Ok (on_line 1 (Apply (SetRecipe None (codes "c") (ByText (codes "a b")) (codes "x"))) ∷ [])) ∷  -- recipe-replace-finds-no-folded-line
    (codes "nth 2 recipe-replace c a x", Ok (on_line 1 (Apply (SetRecipe (Some 2) (codes "c") (ByText (codes "a")) (codes "x"))) ∷ [])) ∷  -- recipe-replace-of-the-rule-that-nth-picks
    (codes "recipe-replace c \"a\\\\\" x", Ok (on_line 1 (Apply (SetRecipe None (codes "c") (ByText (codes "a\\")) (codes "x"))) ∷ [])) ∷  -- recipe-replace-tests-the-old-text
    (codes "recipe-replace foo y z", Ok (on_line 1 (Apply (SetRecipe None (codes "foo") (ByText (codes "y")) (codes "z"))) ∷ [])) ∷  -- recipe-replace-across-a-conditional
    (codes "recipe-remove c \"\"", Ok (on_line 1 (Apply (RemoveLines (OfRecipe None (codes "c") (ByText [])))) ∷ [])) ∷  -- recipe-remove-of-an-empty-line
    (codes "recipe-replace c true x", Ok (on_line 1 (Apply (SetRecipe None (codes "c") (ByText (codes "true")) (codes "x"))) ∷ [])) ∷  -- recipe-replace-counts-a-line-by-its-whole-text
    (codes "all set X 1\n", Ok (on_line 1 (Apply (ChangeValue Every (codes "X") (edits.Set (codes "1")))) ∷ [])) ∷  -- all-set-changes-each-line
    (codes "all set X b\n", Ok (on_line 1 (Apply (ChangeValue Every (codes "X") (edits.Set (codes "b")))) ∷ [])) ∷  -- all-set-of-one-line
    (codes "all set X 1\nundo\nundo\n", Ok (on_line 1 (Apply (ChangeValue Every (codes "X") (edits.Set (codes "1")))) ∷ on_line 2 Undo ∷ on_line 3 Undo ∷ [])) ∷  -- all-set-of-the-value-that-is-there
    (codes "all append F -W\n", Ok (on_line 1 (Apply (ChangeValue Every (codes "F") (edits.Append (codes "-W")))) ∷ [])) ∷  -- all-append-writes-to-each-line
    (codes "all add F -g\n", Ok (on_line 1 (Apply (ChangeValue Every (codes "F") (edits.Add (codes "-g")))) ∷ [])) ∷  -- all-add-leaves-the-lines-that-have-the-word
    (codes "all drop F -g\n", Ok (on_line 1 (Apply (ChangeValue Every (codes "F") (edits.Remove (codes "-g")))) ∷ [])) ∷  -- all-drop-leaves-the-lines-that-lack-the-word
    (codes "all set F 1\n", Ok (on_line 1 (Apply (ChangeValue Every (codes "F") (edits.Set (codes "1")))) ∷ [])) ∷  -- all-set-of-a-name-that-no-line-has-is-refused
    (codes "all set X 4\n", Ok (on_line 1 (Apply (ChangeValue Every (codes "X") (edits.Set (codes "4")))) ∷ [])) ∷  -- all-set-leaves-assignments-for-targets
    (codes "all append F d\n", Ok (on_line 1 (Apply (ChangeValue Every (codes "F") (edits.Append (codes "d")))) ∷ [])) ∷  -- all-append-to-one-open-value-is-refused
    (codes "all add F b\n", Ok (on_line 1 (Apply (ChangeValue Every (codes "F") (edits.Add (codes "b")))) ∷ [])) ∷  -- all-add-to-a-value-that-ends-in-a-fold-is-refused
    (codes "all set F \"a \"\nall append F \"\"\nall add F \"a b\"\nall drop $(F) a\n", Ok (on_line 1 (Apply (ChangeValue Every (codes "F") (edits.Set (codes "a ")))) ∷ on_line 2 (Apply (ChangeValue Every (codes "F") (edits.Append []))) ∷ on_line 3 (Apply (ChangeValue Every (codes "F") (edits.Add (codes "a b")))) ∷ on_line 4 (Apply (ChangeValue Every (codes "$(F)") (edits.Remove (codes "a")))) ∷ [])) ∷  -- all-tests-its-fields
    (codes "all set .RECIPEPREFIX %\n", Ok (on_line 1 (Apply (ChangeValue Every (codes ".RECIPEPREFIX") (edits.Set (codes "%")))) ∷ [])) ∷  -- all-set-of-the-recipe-prefix-is-refused
    (codes "all set X 2\n", Ok (on_line 1 (Apply (ChangeValue Every (codes "X") (edits.Set (codes "2")))) ∷ [])) ∷  -- all-below-a-prefix-that-is-not-read-is-refused
    (codes "all set all all\n", Ok (on_line 1 (Apply (ChangeValue Every (codes "all") (edits.Set (codes "all")))) ∷ [])) ∷  -- all-of-a-variable-named-all
    []

answers_3 : map (λ row. read_script row.0) rows_3 ≡ map (λ row. row.1) rows_3
unfolding line_len lines_from
answers_3 = refl

abbrev rows_4 : List (List ℕ × Result (List Step) ℕ)
rows_4 =
    (codes "all set X 9\nundo\nredo\nall append X 8\nundo\n", Ok (on_line 1 (Apply (ChangeValue Every (codes "X") (edits.Set (codes "9")))) ∷ on_line 2 Undo ∷ on_line 3 Redo ∷ on_line 4 (Apply (ChangeValue Every (codes "X") (edits.Append (codes "8")))) ∷ on_line 5 Undo ∷ [])) ∷  -- all-is-one-edit-for-undo-and-redo
    (codes "all set X 3\nall set X 4\nundo\nundo\n", Ok (on_line 1 (Apply (ChangeValue Every (codes "X") (edits.Set (codes "3")))) ∷ on_line 2 (Apply (ChangeValue Every (codes "X") (edits.Set (codes "4")))) ∷ on_line 3 Undo ∷ on_line 4 Undo ∷ [])) ∷  -- all-is-one-edit-of-the-depth
    (codes "begin\nall set X 3\nset Y 2\ncancel\nall set X 4\n", Ok (on_line 1 Begin ∷ on_line 2 (Apply (ChangeValue Every (codes "X") (edits.Set (codes "3")))) ∷ on_line 3 (Apply (ChangeValue (One None) (codes "Y") (edits.Set (codes "2")))) ∷ on_line 4 Cancel ∷ on_line 5 (Apply (ChangeValue Every (codes "X") (edits.Set (codes "4")))) ∷ [])) ∷  -- all-in-a-group
    (codes "nth 2 set X 3\nall append X a\nnth 1 unset X\nall set X 4\n", Ok (on_line 1 (Apply (ChangeValue (One (Some 2)) (codes "X") (edits.Set (codes "3")))) ∷ on_line 2 (Apply (ChangeValue Every (codes "X") (edits.Append (codes "a")))) ∷ on_line 3 (Apply (RemoveLines (OfAssign (Some 1) (codes "X")))) ∷ on_line 4 (Apply (ChangeValue Every (codes "X") (edits.Set (codes "4")))) ∷ [])) ∷  -- all-and-the-edit-of-one-of-the-lines
    (codes "all set X 3\n", Ok (on_line 1 (Apply (ChangeValue Every (codes "X") (edits.Set (codes "3")))) ∷ [])) ∷  -- all-set-at-the-end-without-a-line-end
    (codes "all set X 4\r\n", Ok (on_line 1 (Apply (ChangeValue Every (codes "X") (edits.Set (codes "4")))) ∷ [])) ∷  -- all-set-with-lines-that-end-in-cr-lf
    (codes "all unset X\n", Err 1) ∷  -- all-before-another-command
    (codes "# c\nnth 1 all set X 2\n", Err 2) ∷  -- all-beside-nth
    (codes "all nth 1 set X 2\n", Err 1) ∷  -- all-before-nth
    (codes "set X 1\nall all set X 2\n", Err 2) ∷  -- all-before-all
    []

answers_4 : map (λ row. read_script row.0) rows_4 ≡ map (λ row. row.1) rows_4
unfolding line_len lines_from
answers_4 = refl
