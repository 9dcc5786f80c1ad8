-- Runs with their answers. Made by `tests/definitions/run_rows.py tests/cases/alternatives.tsv`.
use Rattle.std.proofs.Common.{◌≡◌, refl, ℕ, Bool, true, false, List, [], ◌∷◌, map, Option, Some, None}
use Rattle.std.specs.Prelude.{codes}
use Rattle.std.specs.Fmt.{digits}
use Rattle.mk_class.specs.declared.assignment.Flavor.TheVariants.{Recursive, Simple, PosixSimple, Immediate, Conditional, Append, Shell}
use Rattle.mk_edit_language.specs.declared.edit.RuleSeparator.TheVariants.{Single, Double}
use Rattle.mk_edit_language.specs.Edits.{Bottom, BeforeVar, AfterVar, BeforeRule}
use Rattle.mk_edit_language.specs.Edits.{One, Every, NewAssign, NewRule, AddPrereq, RemovePrereq, ByNumber, ByText, Last, At, OfAssign, OfRule, OfRecipe, ChangeValue, ChangePrereqs, AddLine, AddRecipe, SetRecipe, RemoveLines, RenameTarget}
use Rattle.mk_edit_language.specs.Edits as edits
use Rattle.mk_history.specs.Machine.{Apply, Undo, Redo, Begin, End, Cancel}
use Rattle.mk_script.specs.Scripts.{Step, Chain}
use Rattle.mk_rows.proofs.scripts.ScriptReader.{on_line, edit_on, tried_on}
use Rattle.mk_history.specs.Shown.{shown_opened}
use Rattle.mk_run.specs.ExecutedSteps.{executed_steps}
use Rattle.mk_run.specs.Runs.{RunResult, result_after}
use Rattle.mk_run.specs.declared.outcome.Outcome.{Outcome}
use Rattle.mk_run.specs.declared.outcome.Outcome.TheVariants.{Done, Refused}

abbrev came_to : (keep_going : Bool) → (depth : ℕ) → (makefile : List ℕ) → List Step → RunResult
came_to k depth text steps = result_after k (executed_steps k steps (shown_opened depth text))

abbrev ends : Outcome → (report : List ℕ) → (output : Option (List ℕ)) → RunResult
ends outcome report output = record { outcome = outcome; report = report; output = output }

abbrev rows_1 : List (Bool × ℕ × List ℕ × List Step × RunResult)
rows_1 =
    (false, 100, codes "X = 1\n", Chain (edit_on 1 (ChangeValue (One None) (codes "CC") (edits.Set (codes "clang")))) (edit_on 2 (AddLine Bottom (NewAssign (codes "CC") Recursive (codes "clang")))) [] ∷ [], ends Done [] (Some (codes "X = 1\nCC = clang\n"))) ∷  -- an-alternative-where-the-name-is-missing
    (false, 100, codes "CC = gcc\n", Chain (edit_on 1 (ChangeValue (One None) (codes "CC") (edits.Set (codes "clang")))) (edit_on 2 (AddLine Bottom (NewAssign (codes "CC") Recursive (codes "clang")))) [] ∷ [], ends Done [] (Some (codes "CC = clang\n"))) ∷  -- an-alternative-where-the-name-is-there
    (false, 100, codes "CC = a\nCC = b\n", Chain (edit_on 1 (ChangeValue (One None) (codes "CC") (edits.Set (codes "clang")))) (edit_on 2 (AddLine Bottom (NewAssign (codes "CC") Recursive (codes "clang")))) [] ∷ [], ends (Refused 1) (codes "1: refused 5 Ambiguous 2\n") None) ∷  -- an-ambiguous-name-ends-a-chain
    (false, 100, codes "c: x\n", Chain (edit_on 1 (ChangePrereqs None (codes "c") (AddPrereq false (codes "x")))) (edit_on 2 (AddLine Bottom (NewRule (codes "c") Single (codes "x")))) [] ∷ [], ends Done [] (Some (codes "c: x\n"))) ∷  -- what-is-there-already-ends-a-chain
    (false, 100, codes "X = 1\n", Chain (edit_on 1 (ChangeValue (One None) (codes "A") (edits.Set (codes "1")))) (edit_on 2 (ChangeValue (One None) (codes "B") (edits.Set (codes "1")))) [] ∷ [], ends (Refused 1) (codes "2: refused 4 NoSuch\n") None) ∷  -- the-last-of-a-chain-finds-nothing
    (false, 100, codes "c: x\n", tried_on 1 (ChangePrereqs None (codes "c") (AddPrereq false (codes "x"))) ∷ tried_on 2 (ChangePrereqs None (codes "c") (RemovePrereq (codes "y"))) ∷ tried_on 3 (RemoveLines (OfAssign None (codes "Q"))) ∷ tried_on 4 (RemoveLines (OfRecipe None (codes "c") (ByNumber 1))) ∷ [], ends Done [] (Some (codes "c: x\n"))) ∷  -- idle-refusals-behind-try
    (true, 100, codes "X = 1\nX = 2\nc: x\n", tried_on 1 (ChangeValue (One None) (codes "X") (edits.Set (codes "3"))) ∷ tried_on 2 (RenameTarget (codes "c") (codes "c")) ∷ tried_on 3 (ChangePrereqs None (codes "c") (AddPrereq false (codes "a b"))) ∷ [], ends (Refused 3) (codes "1: refused 5 Ambiguous 2\n2: refused 8 Taken\n3: refused 1 BadArgument word\n") (Some (codes "X = 1\nX = 2\nc: x\n"))) ∷  -- other-refusals-behind-try
    (false, 100, codes "X = 1\n", tried_on 1 (ChangeValue (One None) (codes "X") (edits.Set (codes "2"))) ∷ [], ends Done [] (Some (codes "X = 2\n"))) ∷  -- an-accepted-edit-behind-try
    (false, 100, codes "c: x\n", Chain (edit_on 1 (ChangePrereqs None (codes "c") (RemovePrereq (codes "y")))) (edit_on 2 (RemoveLines (OfRule None (codes "c")))) [] ∷ [], ends Done [] (Some (codes "c: x\n"))) ∷  -- what-is-absent-ends-a-chain
    (false, 100, codes "c: x\n", on_line 1 (Apply (ChangePrereqs None (codes "c") (RemovePrereq (codes "y")))) ∷ [], ends (Refused 1) (codes "1: refused 6 Absent\n") None) ∷  -- what-is-absent-alone-is-told
    (false, 100, codes "X = 1\n", Chain (edit_on 1 (ChangeValue (One None) (codes "X") (edits.Set (codes "2")))) (edit_on 2 (ChangeValue (One None) (codes "X") (edits.Set (codes "3")))) ((edit_on 3 (RemoveLines (OfAssign None (codes "X")))) ∷ []) ∷ [], ends Done [] (Some (codes "X = 2\n"))) ∷  -- an-accepted-edit-ends-a-chain
    (false, 100, codes "c: x\n", Chain (edit_on 1 (ChangeValue (One None) (codes "A") (edits.Set (codes "1")))) (edit_on 2 (ChangePrereqs None (codes "c") (AddPrereq false (codes "x")))) [] ∷ [], ends Done [] (Some (codes "c: x\n"))) ∷  -- the-last-of-a-chain-is-there-already
    (true, 100, codes "X = 1\nX = 2\n", Chain (edit_on 1 (ChangeValue (One None) (codes "A") (edits.Set (codes "1")))) (edit_on 2 (ChangeValue (One None) (codes "X") (edits.Set (codes "3")))) ((edit_on 3 (AddLine Bottom (NewAssign (codes "A") Recursive (codes "1")))) ∷ []) ∷ on_line 4 (Apply (AddLine Bottom (NewAssign (codes "B") Recursive (codes "1")))) ∷ [], ends (Refused 1) (codes "2: refused 5 Ambiguous 2\n") (Some (codes "X = 1\nX = 2\nB = 1\n"))) ∷  -- a-chain-refused-in-the-middle-goes-no-further
    (false, 100, codes "X = 1\n", Chain (edit_on 1 (ChangeValue (One None) (codes "A") (edits.Set (codes "1")))) (edit_on 2 (ChangeValue (One None) (codes "X") (edits.Set (codes "2")))) [] ∷ on_line 3 Undo ∷ [], ends Done [] (Some (codes "X = 1\n"))) ∷  -- an-alternative-is-one-edit-for-undo
    (false, 100, codes "X = 1\n", on_line 1 Begin ∷ Chain (edit_on 2 (ChangeValue (One None) (codes "A") (edits.Set (codes "1")))) (edit_on 3 (AddLine Bottom (NewAssign (codes "A") Recursive (codes "1")))) [] ∷ tried_on 4 (RemoveLines (OfAssign None (codes "Q"))) ∷ on_line 5 (Apply (ChangeValue (One None) (codes "X") (edits.Set (codes "2")))) ∷ on_line 6 End ∷ on_line 7 Undo ∷ [], ends Done [] (Some (codes "X = 1\n"))) ∷  -- alternatives-in-a-group
    (true, 1, codes "X = 1\n", Chain (edit_on 1 (ChangeValue (One None) (codes "A") (edits.Set (codes "1")))) (edit_on 2 (ChangeValue (One None) (codes "X") (edits.Set (codes "2")))) [] ∷ on_line 3 (Apply (ChangeValue (One None) (codes "X") (edits.Set (codes "3")))) ∷ on_line 4 Undo ∷ on_line 5 Undo ∷ [], ends (Refused 1) (codes "5: refused 16 NothingToUndo\n") (Some (codes "X = 2\n"))) ∷  -- a-chain-counts-once-against-the-depth
    (false, 100, codes "X = 1\n", on_line 1 (Apply (ChangeValue (One None) (codes "X") (edits.Set (codes "2")))) ∷ on_line 2 Undo ∷ tried_on 3 (RemoveLines (OfAssign None (codes "Q"))) ∷ on_line 4 Redo ∷ [], ends Done [] (Some (codes "X = 2\n"))) ∷  -- an-idle-refusal-leaves-what-can-be-redone
    (false, 100, codes "F+=\\\n\\\nb#\nF= -O2#\nX \t+= ${g(} #\0\n", [], ends Done [] (Some (codes "F+=\\\n\\\nb#\nF= -O2#\nX \t+= ${g(} #\0\n"))) ∷  -- alternatives-001
    (false, 100, codes ".RECIPEPREFIX = >\r\nifdef A\nX !=\nendif\n", on_line 1 (Apply (RemoveLines (OfAssign (Some 1) (codes "X")))) ∷ on_line 2 (Apply (ChangeValue (One (Some 4294967295)) (codes "F") (edits.Set []))) ∷ [], ends (Refused 1) (codes "2: refused 4 NoSuch\n") None) ∷  -- alternatives-002
    (false, 100, codes "ifdef A\nX =  #-g\nelse\na.b\\\n= b \\\n \\\n a\\$ #-g\nendif\nendef ::=  c .PHONY \nc&: # c\n\ta\\\\\n\trm -f x\n", on_line 2 Undo ∷ on_line 3 Undo ∷ tried_on 4 (RemoveLines (OfAssign None (codes "X"))) ∷ [], ends (Refused 1) (codes "2: refused 16 NothingToUndo\n") None) ∷  -- alternatives-003
    (true, 100, codes "F\\\n?=x=1  a:b\\\n =\nF\\\n= ${v a\\\na -g# c\nF\\\n::= x=1\t$(a b) # \\\n d\n # x ; y : z = 1\nc c&: a\n\ta \\\n\tb\n\tx \\ y\n\t>a\n\t\n", on_line 1 Redo ∷ [], ends (Refused 1) (codes "1: refused 17 NothingToRedo\n") (Some (codes "F\\\n?=x=1  a:b\\\n =\nF\\\n= ${v a\\\na -g# c\nF\\\n::= x=1\t$(a b) # \\\n d\n # x ; y : z = 1\nc c&: a\n\ta \\\n\tb\n\tx \\ y\n\t>a\n\t\n"))) ∷  -- alternatives-004
    (false, 100, codes "X += a \\\r\n;#-g\r\nX\\\r\n= $(a b)\\\r\n \\# -g\r\noverride F = a:b # a \\\\", on_line 1 (Apply (AddLine (BeforeVar (Some 2) (codes "X")) (NewAssign (codes "-x_9") Shell (codes "c $(f {)")))) ∷ [], ends Done [] (Some (codes "X += a \\\r\n;#-g\r\n-x_9 != c $(f {)\r\nX\\\r\n= $(a b)\\\r\n \\# -g\r\noverride F = a:b # a \\\\"))) ∷  -- alternatives-005
    (true, 100, codes "override a.b != # a \\\\\nF\\\n= x=1 x=1  $(a\tb) a #\nF\\\n= \\\n \\\n -O2\ta:b\nF\\\n::= b\n", tried_on 1 (ChangeValue (One (Some 4294967295)) (codes "a.b") (edits.Set (codes "$ b"))) ∷ [], ends Done [] (Some (codes "override a.b != # a \\\\\nF\\\n= x=1 x=1  $(a\tb) a #\nF\\\n= \\\n \\\n -O2\ta:b\nF\\\n::= b\n"))) ∷  -- alternatives-006
    (true, 100, codes "ifdef A\nX = \nelse\nF::=-g ;\t$(s (b) a) \\\n    b a\nendif\n", [], ends Done [] (Some (codes "ifdef A\nX = \nelse\nF::=-g ;\t$(s (b) a) \\\n    b a\nendif\n"))) ∷  -- alternatives-007
    (true, 100, codes "F =-g \\\r\n b ${c}\\\r\n$(w \\\r\n a)\r\nF\\\r\n::=-g\\\r\n$$\r\nc: a | b\r\n", on_line 1 Begin ∷ [], ends Done [] (Some (codes "F =-g \\\r\n b ${c}\\\r\n$(w \\\r\n a)\r\nF\\\r\n::=-g\\\r\n$$\r\nc: a | b\r\n"))) ∷  -- alternatives-008
    (true, 100, codes "c: ; true\noverride!=a $(s (b) a) x=1 | \\\n    b \n\ta\\\n b\nifdef A\n\t# n\nc:\n\n\ttrue\n\t a\nd: # c\n\ta\n\t# n\nF := a\\$\n", on_line 1 (Apply (RemoveLines (OfRecipe (Some 2) (codes "c") (ByNumber 1)))) ∷ on_line 2 Undo ∷ [], ends Done [] (Some (codes "c: ; true\noverride!=a $(s (b) a) x=1 | \\\n    b \n\ta\\\n b\nifdef A\n\t# n\nc:\n\n\ttrue\n\t a\nd: # c\n\ta\n\t# n\nF := a\\$\n"))) ∷  -- alternatives-009
    (true, 100, codes "ifdef A\nF\\\n+= a a $(a b)\\\n a$ \nelse\nX\\\n= \\\r\n ; $(t \\\n -g)#\nendif", [], ends Done [] (Some (codes "ifdef A\nF\\\n+= a a $(a b)\\\n a$ \nelse\nX\\\n= \\\r\n ; $(t \\\n -g)#\nendif"))) ∷  -- alternatives-010
    (true, 100, codes "F\\\n=b\nX += b \\\n    x=1 a $\\\n ", on_line 1 Undo ∷ [], ends (Refused 1) (codes "1: refused 16 NothingToUndo\n") (Some (codes "F\\\n=b\nX += b \\\n    x=1 a $\\\n "))) ∷  -- alternatives-012
    (true, 100, codes "include: ; true\n\ta\\\\\n", tried_on 1 (ChangeValue (One (Some 1)) (codes "F") (edits.Set (codes "2"))) ∷ on_line 2 (Apply (RemoveLines (OfAssign None (codes "F")))) ∷ [], ends (Refused 1) (codes "2: refused 4 NoSuch\n") (Some (codes "include: ; true\n\ta\\\\\n"))) ∷  -- alternatives-013
    (true, 100, codes "X =-g b\nc:: a\n\trm -rf x\n\ttrue\n\tb\n", tried_on 1 (ChangeValue (One None) (codes "F") (edits.Append (codes "$ b a$ b"))) ∷ [], ends Done [] (Some (codes "X =-g b\nc:: a\n\trm -rf x\n\ttrue\n\tb\n"))) ∷  -- alternatives-014
    (false, 100, codes "F +=\\\nx=1 a:b  ;\noverride =\nF =  # \\\n d\nexport F?= -g # a \\\\\n", on_line 1 (Apply (RemoveLines (OfAssign (Some 3) (codes "F")))) ∷ on_line 2 (Apply (AddLine Bottom (NewAssign (codes "override") Simple []))) ∷ [], ends Done [] (Some (codes "F +=\\\nx=1 a:b  ;\noverride =\nF =  # \\\n d\noverride :=\n"))) ∷  -- alternatives-015
    (false, 100, codes ".RECIPEPREFIX = >\nX ::= $\\\n\n.RECIPEPREFIX = \n", [], ends Done [] (Some (codes ".RECIPEPREFIX = >\nX ::= $\\\n\n.RECIPEPREFIX = \n"))) ∷  -- alternatives-016
    (true, 100, codes "c: ; true\n\t>a\n\ta\\\n b\n\ttrue\n", [], ends Done [] (Some (codes "c: ; true\n\t>a\n\ta\\\n b\n\ttrue\n"))) ∷  -- alternatives-017
    (true, 100, codes "F\\\n= a -g # c\na.b = $x  b \na.b\\\n!= x$(a  b) -O2\n", Chain (edit_on 1 (AddLine (AfterVar (Some 4294967295) (codes "ifdef")) (NewRule (codes "$(q:;=|)") Double (codes "a")))) (edit_on 2 (AddRecipe (Some 1) (codes "$(q:;=|)") Last [])) [] ∷ [], ends (Refused 1) (codes "2: refused 4 NoSuch\n") (Some (codes "F\\\n= a -g # c\na.b = $x  b \na.b\\\n!= x$(a  b) -O2\n"))) ∷  -- alternatives-019
    (false, 100, codes "d: a | b\nendif\nifdef A\nX = -O2 \nendif\n%.o: ;\n\tt\nF\\\n= $x # c ", on_line 1 Redo ∷ [], ends (Refused 1) (codes "1: refused 17 NothingToRedo\n") None) ∷  -- alternatives-020
    (false, 100, codes "| \\\n \n", on_line 1 (Apply (AddLine Bottom (NewAssign (codes "t") Immediate []))) ∷ on_line 2 (Apply (RemoveLines (OfAssign None (codes "t")))) ∷ [], ends Done [] (Some (codes "| \\\n \n"))) ∷  -- alternatives-021
    (false, 100, codes "d c: ; true\r\nelse\r\n>true\r\nc: # c\r\n\ta # b\r\nendif\r\nelse\r\n", on_line 1 (Apply (ChangeValue (One None) (codes "override") (edits.Set (codes "a:b")))) ∷ [], ends (Refused 1) (codes "1: refused 4 NoSuch\n") None) ∷  -- alternatives-022
    (false, 100, codes "F+= a a x=1 x=1 a \\\r\n \r", on_line 1 (Apply (ChangeValue (One None) (codes "F") (edits.Set []))) ∷ on_line 2 (Apply (AddLine Bottom (NewRule (codes "$(f {)") Double (codes "c")))) ∷ [], ends (Refused 1) (codes "1: refused 4 NoSuch\n") None) ∷  -- alternatives-023
    (false, 100, codes "F = a:b\nexport F\\\n!== ; a\\\n\\\n-g\t$$# c\n", tried_on 1 (ChangeValue (One None) (codes "override") (edits.Append (codes "$\\x"))) ∷ on_line 2 Undo ∷ [], ends (Refused 1) (codes "2: refused 16 NothingToUndo\n") None) ∷  -- alternatives-025
    (false, 100, codes "c: ; true\r\n\t# n\r\n\ta\r\nifdef A\r\nX+=\\ b\\\r\n\\\r\n-g \\\\\r\n$\r\nendif\r\n=\r\n$adefine\\\\\r\n\r\nX\\\r\n= b\\\r\n $x $(a b)\\\r\n$(w \\\r\n a) \r", tried_on 1 (AddRecipe None (codes "c") Last []) ∷ on_line 2 Undo ∷ on_line 3 Begin ∷ [], ends Done [] (Some (codes "c: ; true\r\n\t# n\r\n\ta\r\nifdef A\r\nX+=\\ b\\\r\n\\\r\n-g \\\\\r\n$\r\nendif\r\n=\r\n$adefine\\\\\r\n\r\nX\\\r\n= b\\\r\n $x $(a b)\\\r\n$(w \\\r\n a) \r"))) ∷  -- alternatives-026
    (true, 100, codes "F += -O2 -g a b\r\nx.o:\r\n\tt\r\n\tx \\ y\r\nendif\r\nF\\\r\n=\\\r\n\r\n#c \\\r\n d\r\n", [], ends Done [] (Some (codes "F += -O2 -g a b\r\nx.o:\r\n\tt\r\n\tx \\ y\r\nendif\r\nF\\\r\n=\\\r\n\r\n#c \\\r\n d\r\n"))) ∷  -- alternatives-027
    (true, 100, codes "c:: a\n\t\n\t\ttrue\n\t>a", [], ends Done [] (Some (codes "c:: a\n\t\n\t\ttrue\n\t>a"))) ∷  -- alternatives-028
    (false, 100, codes "\t  : X :::=  \nF := x$(a  b)#\n", on_line 1 (Apply (AddLine Bottom (NewRule (codes "a") Single (codes "$$")))) ∷ on_line 2 Undo ∷ [], ends Done [] (Some (codes "\t  : X :::=  \nF := x$(a  b)#\n"))) ∷  -- alternatives-029
    (false, 100, codes "c&: # c\r\n\t\r\n\ttrue\r\nd c: # c\r\n>rm -rf x\r\n>true\r\n>x \\ y", tried_on 1 (ChangeValue (One (Some 1)) (codes "F") (edits.Set (codes "2"))) ∷ on_line 2 (Apply (AddLine (BeforeRule (Some 0) (codes "d")) (NewAssign (codes "override") Simple (codes "x.o")))) ∷ on_line 3 Undo ∷ [], ends (Refused 1) (codes "2: refused 4 NoSuch\n") None) ∷  -- alternatives-032
    (true, 100, codes "F:=$x \nc&: ; true\n\ttrue\n\ta\n\tifdef Q\n", on_line 1 Redo ∷ tried_on 2 (RemoveLines (OfAssign (Some 2) (codes "F"))) ∷ on_line 3 (Apply (ChangeValue (One (Some 2)) (codes "F") (edits.Add (codes "$x")))) ∷ on_line 4 (Apply (ChangeValue (One None) (codes "F") (edits.Add (codes "$ b")))) ∷ [], ends (Refused 2) (codes "1: refused 17 NothingToRedo\n3: refused 4 NoSuch\n") (Some (codes "F:=$x $ b \nc&: ; true\n\ttrue\n\ta\n\tifdef Q\n"))) ∷  -- alternatives-034
    (false, 100, codes " \\\n\nF = $(s (b) a) \\\r\n -g a\\ \\\n \ninclude::\n\t\ttrue\n\trm -f x\n", on_line 1 (Apply (AddRecipe None (codes "c") (At 1) (codes "ifdef Q"))) ∷ on_line 2 (Apply (ChangeValue (One (Some 2)) (codes "a\\=") (edits.Add (codes "a:b")))) ∷ on_line 3 (Apply (ChangeValue (One (Some 1)) (codes "F") (edits.Append (codes "-O2")))) ∷ [], ends (Refused 1) (codes "1: refused 4 NoSuch\n") None) ∷  -- alternatives-035
    (true, 100, codes "x.o:: ; true\nd:: a | b\n\ta \\\n\tb\n\ta\n\tsay \"q\"\nc:\nifdef A\n", tried_on 1 (SetRecipe None (codes "c") (ByText (codes "rm -f x")) (codes "a")) ∷ on_line 2 (Apply (SetRecipe (Some 1) (codes "x.o") (ByText (codes "rm -rf x")) (codes "b"))) ∷ on_line 3 (Apply (AddRecipe None (codes "c") (At 1) (codes "true"))) ∷ [], ends (Refused 1) (codes "2: refused 6 Absent\n") (Some (codes "x.o:: ; true\nd:: a | b\n\ta \\\n\tb\n\ta\n\tsay \"q\"\nc:\n\ttrue\nifdef A\n"))) ∷  -- alternatives-037
    (true, 100, codes "c: # c\nF = $x $(a b)  $\\ $(a b) -O2\nc&: a | b\n", on_line 1 (Apply (AddLine (BeforeRule (Some 1) (codes "c")) (NewAssign (codes "t") Shell (codes "a |")))) ∷ on_line 2 (Apply (ChangeValue (One (Some 4294967295)) (codes "F") (edits.Add (codes "a$ b")))) ∷ on_line 3 (Apply (ChangeValue (One None) (codes "F") (edits.Add (codes "a ")))) ∷ on_line 4 (Apply (AddRecipe (Some 2) (codes "c") (At 1) (codes "ifdef Q"))) ∷ [], ends (Refused 2) (codes "2: refused 4 NoSuch\n3: refused 1 BadArgument word\n") (Some (codes "t != a |\nc: # c\nF = $x $(a b)  $\\ $(a b) -O2\nc&: a | b\n\tifdef Q\n"))) ∷  -- alternatives-038
    (false, 100, codes "x.o: ;\n\t# n\n\t\n\trm -f x\nc:\n \n\trm -f x\n\t a\nc: ; true\n\t\\\n\ninclude: a | b\n>rm -f x\n>\n\n", Chain (edit_on 1 (AddRecipe (Some 4294967295) (codes "x.o") (At 1) (codes "ifdef Q"))) (edit_on 3 (SetRecipe None (codes "include") (ByText (codes "a\0")) (codes "a"))) ((edit_on 4 (ChangeValue (One (Some 1)) (codes "F") (edits.Set (codes "-g")))) ∷ (edit_on 6 (SetRecipe None (codes "x.o") (ByText (codes "rm -f x")) (codes "a"))) ∷ []) ∷ [], ends (Refused 1) (codes "3: refused 1 BadArgument old\n") None) ∷  -- alternatives-039
    (true, 100, codes "d:: a\n>t\nd: a | b\n\ttrue\n\t\n", on_line 1 (Apply (SetRecipe (Some 4294967295) (codes "d") (ByText (codes "true")) (codes "x \\ y"))) ∷ on_line 2 End ∷ on_line 3 Undo ∷ [], ends (Refused 3) (codes "1: refused 4 NoSuch\n2: refused 19 NoGroup\n3: refused 16 NothingToUndo\n") (Some (codes "d:: a\n>t\nd: a | b\n\ttrue\n\t\n"))) ∷  -- alternatives-040
    []

answers_1 : map (λ row. came_to row.0 row.1 row.2 row.3) rows_1 ≡ map (λ row. row.4) rows_1
unfolding digits
answers_1 = refl

abbrev rows_2 : List (Bool × ℕ × List ℕ × List Step × RunResult)
rows_2 =
    (true, 100, codes "c: ; true\n# \\\n n\n\trm -f x\nelse\n\trm -rf x\n", on_line 1 (Apply (SetRecipe None (codes "c") (ByText (codes "rm -f x")) (codes "true"))) ∷ tried_on 2 (ChangeValue (One None) (codes "F") (edits.Set (codes "$(t -g)"))) ∷ tried_on 3 (RemoveLines (OfRecipe (Some 1) (codes "c") (ByText (codes "true")))) ∷ on_line 4 (Apply (AddRecipe None (codes "c") Last [])) ∷ on_line 5 (Apply (AddRecipe None (codes "c") (At 1) (codes ">a"))) ∷ [], ends Done [] (Some (codes "c: ; true\n\t>a\n\t\n# \\\n n\nelse\n\trm -rf x\n"))) ∷  -- alternatives-042
    (false, 100, codes "d d: # c\n\t>a\n\trm -rf x\n\ta\\\\\n\t a\nifdef A\nF = \nelse\nF ::= Ã© $(w \\\n a) \\\n    =\nendif\nc: a\nc: ; true\n\ttrue \\\r\n\ttrue\n", on_line 1 (Apply (AddLine (BeforeVar (Some 1) (codes "F")) (NewAssign (codes "endef") Conditional (codes "$(f {)")))) ∷ on_line 2 (Apply (ChangeValue (One (Some 2)) (codes "F") (edits.Add (codes "$ b")))) ∷ [], ends Done [] (Some (codes "d d: # c\n\t>a\n\trm -rf x\n\ta\\\\\n\t a\nifdef A\nendef ?= $(f {)\nF = \nelse\nF ::= Ã© $(w \\\n a) \\\n    = $ b\nendif\nc: a\nc: ; true\n\ttrue \\\r\n\ttrue\n"))) ∷  -- alternatives-043
    (false, 100, codes "F ::= $\\ \\\r\n -g# a \\\\\n", Chain (edit_on 1 (SetRecipe None (codes "d") (ByText (codes "t")) (codes "ifdef Q"))) (edit_on 3 (AddLine Bottom (NewRule (codes "$(q:;=|) $(a b)") Single (codes ".PHONY a&b")))) [] ∷ on_line 4 (Apply (AddRecipe (Some 1) (codes "$(q:;=|)") (At 1) (codes "b"))) ∷ on_line 5 (Apply (SetRecipe None (codes "$(a b)") (ByText (codes "b")) (codes "say \"q\""))) ∷ tried_on 6 (RemoveLines (OfRecipe None (codes "$(q:;=|)") (ByText (codes "say \"q\"")))) ∷ [], ends Done [] (Some (codes "F ::= $\\ \\\r\n -g# a \\\\\n$(q:;=|) $(a b): .PHONY a&b\r\n"))) ∷  -- alternatives-044
    (false, 100, codes "c: ;\n\t# n\n\trm -rf x\n\t a\nF:= \\ b = -g \\\n\n\t \n", on_line 1 (Apply (ChangeValue (One None) (codes "F") (edits.Set (codes "a")))) ∷ on_line 2 (Apply (AddRecipe None (codes "c") (At 3) (codes "say \"q\""))) ∷ on_line 3 (Apply (RemoveLines (OfRecipe None (codes "c") (ByText (codes "# n"))))) ∷ on_line 4 (Apply (AddRecipe None (codes "c") (At 4) (codes "true"))) ∷ on_line 5 (Apply (ChangeValue (One (Some 1)) (codes "F") (edits.Add (codes "-O2")))) ∷ [], ends Done [] (Some (codes "c: ;\n\trm -rf x\n\tsay \"q\"\n\t a\n\ttrue\nF:= a -O2 \\\n\n\t \n"))) ∷  -- alternatives-047
    (false, 100, codes "c&: # c\n\tb\n\t# n\n\tsay \"q\"\n", on_line 1 (Apply (RemoveLines (OfRecipe None (codes "c") (ByText (codes "b"))))) ∷ on_line 2 (Apply (SetRecipe None (codes "c") (ByText (codes "# n")) (codes "\ttrue"))) ∷ on_line 3 (Apply (RemoveLines (OfRecipe None (codes "c") (ByText (codes "\ttrue"))))) ∷ on_line 4 (Apply (RemoveLines (OfRecipe None (codes "c") (ByText (codes "say \"q\""))))) ∷ tried_on 5 (SetRecipe (Some 4294967295) (codes "c") (ByText (codes "\ttrue")) (codes "true")) ∷ on_line 6 (Apply (AddRecipe None (codes "c") (At 1) (codes "true"))) ∷ [], ends Done [] (Some (codes "c&: # c\n\ttrue\n"))) ∷  -- alternatives-048
    (false, 100, codes "F\\\n= \nx.o:: a | b\nifdef A\n\trm -f x", on_line 1 (Apply (SetRecipe None (codes "x.o") (ByText (codes "rm -f x")) (codes "true"))) ∷ on_line 2 Undo ∷ on_line 3 (Apply (RemoveLines (OfRecipe None (codes "x.o") (ByText (codes "rm -f x"))))) ∷ on_line 4 Undo ∷ [], ends Done [] (Some (codes "F\\\n= \nx.o:: a | b\nifdef A\n\trm -f x"))) ∷  -- alternatives-049
    (false, 100, codes "\ninclude: a\n# n\n\ttrue\n\tsay \"q\"\n", on_line 1 (Apply (AddRecipe (Some 1) (codes "include") (At 1) (codes "true"))) ∷ on_line 2 End ∷ on_line 3 (Apply (AddLine (BeforeRule None (codes "include")) (NewRule [] Single (codes "t a&b")))) ∷ on_line 4 Begin ∷ tried_on 5 (SetRecipe None (codes "include") (ByText []) (codes " a")) ∷ Chain (edit_on 6 (AddRecipe (Some 0) (codes "c") (At 1) (codes "a"))) (edit_on 7 (RemoveLines (OfRecipe None (codes "include") (ByText (codes "true"))))) [] ∷ on_line 8 Redo ∷ [], ends (Refused 1) (codes "1: refused 2 Reserved\n") None) ∷  -- alternatives-050
    (true, 100, codes "c: a | b\noverride = a\\ \r", on_line 1 (Apply (AddLine Bottom (NewRule (codes "$ ") Single (codes "%.o else")))) ∷ on_line 2 (Apply (SetRecipe None (codes "c") (ByText (codes "a\0")) (codes "true"))) ∷ [], ends (Refused 2) (codes "1: refused 1 BadArgument targets\n2: refused 1 BadArgument old\n") (Some (codes "c: a | b\noverride = a\\ \r"))) ∷  -- alternatives-051
    (false, 100, codes "$(u \\\r\n:\\\r\n\\\r\n-include2 ;a\\$xx.o #\\\\\\\r\n\r\nX =\r\n", tried_on 1 (RemoveLines (OfAssign (Some 0) (codes "override"))) ∷ on_line 2 (Apply (RemoveLines (OfRecipe None (codes "x.o") (ByText (codes "ifdef Q"))))) ∷ [], ends (Refused 1) (codes "2: refused 4 NoSuch\n") None) ∷  -- alternatives-052
    (true, 100, codes "%.o: # c\n\ttrue\n\t# n\n\ttrue", on_line 1 (Apply (ChangePrereqs None (codes "%.o") (AddPrereq true (codes "${c}")))) ∷ on_line 2 Undo ∷ tried_on 3 (ChangePrereqs None (codes "%.o") (RemovePrereq (codes "%.c"))) ∷ tried_on 4 (SetRecipe None (codes "%.o") (ByText (codes "# n")) (codes "a")) ∷ Chain (edit_on 5 (RemoveLines (OfRecipe None (codes "%.o") (ByText (codes "ifdef Q"))))) (edit_on 6 (SetRecipe None (codes "%.o") (ByText (codes "a # b")) (codes ">a"))) ((edit_on 8 (ChangeValue (One None) (codes "F") (edits.Add (codes "x=1")))) ∷ (edit_on 9 (RemoveLines (OfRecipe None (codes "%.o") (ByText (codes "a"))))) ∷ []) ∷ on_line 10 (Apply (SetRecipe None (codes "%.o") (ByText (codes "a")) (codes "a"))) ∷ [], ends Done [] (Some (codes "%.o: # c\n\ttrue\n\ta\n\ttrue"))) ∷  -- alternatives-053
    (true, 100, codes "c:\nelse\n", tried_on 1 (AddRecipe None (codes "c") Last (codes "y # z")) ∷ Chain (edit_on 2 (ChangeValue (One (Some 2)) (codes "F") (edits.Set (codes "|")))) (edit_on 4 (RemoveLines (OfAssign (Some 4294967295) (codes "override")))) ((edit_on 5 (ChangePrereqs None (codes "c") (RemovePrereq (codes "%.c")))) ∷ (edit_on 6 (SetRecipe None (codes "c") (ByText (codes "y # z")) (codes "true"))) ∷ []) ∷ on_line 7 Undo ∷ tried_on 8 (AddRecipe None (codes "c") (At 1) (codes "say \"q\"")) ∷ Chain (edit_on 9 (AddLine (BeforeRule None (codes "t")) (NewAssign (codes "Y") Append (codes "t ${c}")))) (edit_on 10 (RemoveLines (OfRecipe None (codes "c") (ByText (codes "say \"q\""))))) [] ∷ tried_on 11 (ChangeValue (One None) (codes "F") (edits.Append (codes "$ b a"))) ∷ on_line 12 (Apply (AddRecipe None (codes "c") (At 1) (codes "a"))) ∷ on_line 13 (Apply (AddRecipe None (codes "c") (At 2) (codes "say \"q\""))) ∷ tried_on 14 (RemoveLines (OfRule None (codes "c"))) ∷ on_line 15 (Apply (AddLine Bottom (NewRule (codes "t %.o") Single (codes "$(a b) b")))) ∷ [], ends Done [] (Some (codes "else\nt %.o: $(a b) b\n"))) ∷  -- alternatives-054
    (false, 100, codes ".RECIPEPREFIX = >\noverride ::= \\\n$ \na.b\\\n= -g\nc: a | b\n\trm -rf x\nifdef A\nX ::= -g a:b ;\nendif\n", tried_on 1 (RemoveLines (OfRecipe None (codes "c") (ByText (codes "t")))) ∷ [], ends Done [] (Some (codes ".RECIPEPREFIX = >\noverride ::= \\\n$ \na.b\\\n= -g\nc: a | b\n\trm -rf x\nifdef A\nX ::= -g a:b ;\nendif\n"))) ∷  -- alternatives-055
    (false, 100, codes "ifdef A\r\noverride =  #\r\nendif\r\nd: ;\r\n\ttrue\r\n\ta \\\r\n\tb\r\nc&: a\r\n\tx \\ y\r\n\t# n\r\n", on_line 1 (Apply (AddRecipe None (codes "c") (At 2) (codes ">a"))) ∷ on_line 2 Undo ∷ on_line 3 (Apply (ChangeValue (One None) (codes "override") (edits.Set []))) ∷ on_line 4 (Apply (SetRecipe None (codes "d") (ByText (codes "true")) [])) ∷ Chain (edit_on 5 (RemoveLines (OfAssign None (codes "a.b")))) (edit_on 7 (RemoveLines (OfAssign None (codes "override")))) [] ∷ on_line 8 (Apply (AddRecipe None (codes "d") (At 3) (codes " a"))) ∷ on_line 9 (Apply (AddLine (BeforeRule (Some 1) (codes "d")) (NewAssign (codes "override") Append []))) ∷ tried_on 10 (ChangeValue (One (Some 1)) (codes "F") (edits.Set (codes "2"))) ∷ on_line 11 Undo ∷ [], ends Done [] (Some (codes "ifdef A\r\nendif\r\nd: ;\r\n\t\r\n\ta \\\r\n\tb\r\n\t a\r\nc&: a\r\n\tx \\ y\r\n\t# n\r\n"))) ∷  -- alternatives-056
    (true, 100, codes "F +=-g $(s (b) a)# a \\\\\n\\\n\t\nifdef A\nX\\\n!=\\ b\nelse\noverride =  # a \\\\\nendif\n\\\nA ::=  ", on_line 1 Begin ∷ on_line 2 (Apply (ChangeValue (One (Some 1)) (codes "override") (edits.Add (codes "-g")))) ∷ [], ends Done [] (Some (codes "F +=-g $(s (b) a)# a \\\\\n\\\n\t\nifdef A\nX\\\n!=\\ b\nelse\noverride =  -g# a \\\\\nendif\n\\\nA ::=  "))) ∷  -- alternatives-057
    (false, 100, codes "$x \t$ &:export \\\r\n  override :::= \r\n", on_line 1 (Apply (AddLine Bottom (NewAssign (codes "ifdef") Append []))) ∷ tried_on 2 (ChangeValue (One None) (codes "ifdef") (edits.Add (codes "-O2"))) ∷ [], ends Done [] (Some (codes "$x \t$ &:export \\\r\n  override :::= \r\nifdef +=-O2\r\n"))) ∷  -- alternatives-058
    (false, 100, codes "c&: # c\n\tt\n\t a\n${g(} &: \toverride Y!?=  $\\\n 1%.c# c\nc:: ; true\n>b\n>a\n>true \\\r\n\ttrue", tried_on 1 (RemoveLines (OfAssign (Some 0) (codes "F"))) ∷ tried_on 2 (ChangePrereqs (Some 1) (codes "c") (RemovePrereq (codes "$x"))) ∷ tried_on 3 (SetRecipe (Some 1) (codes "c") (ByText (codes " a")) (codes "ifdef Q")) ∷ on_line 4 (Apply (AddRecipe (Some 2) (codes "c") (At 1) (codes "a # b"))) ∷ on_line 5 (Apply (SetRecipe (Some 1) (codes "c") (ByText (codes "ifdef Q")) (codes ">a"))) ∷ tried_on 6 (ChangeValue (One (Some 1)) (codes "F") (edits.Set (codes "2"))) ∷ Chain (edit_on 7 (AddRecipe (Some 1) (codes "c") (At 1) (codes "b"))) (edit_on 8 (SetRecipe (Some 2) (codes "c") (ByText (codes "a # b")) (codes "say \"q\""))) [] ∷ tried_on 9 (RemoveLines (OfRecipe (Some 2) (codes "c") (ByText (codes "a # b")))) ∷ on_line 10 (Apply (AddRecipe (Some 2) (codes "c") (At 1) (codes " a"))) ∷ on_line 11 (Apply (AddRecipe (Some 1) (codes "c") (At 2) (codes "b"))) ∷ [], ends Done [] (Some (codes "c&: # c\n\tb\n\tb\n\tt\n\t>a\n${g(} &: \toverride Y!?=  $\\\n 1%.c# c\nc:: ; true\n\t a\n>b\n>a\n>true \\\r\n\ttrue"))) ∷  -- alternatives-059
    (true, 100, codes "d: a\n\t# n\n", on_line 1 (Apply (ChangeValue (One None) (codes "F") (edits.Set (codes "$\\x")))) ∷ Chain (edit_on 2 (RemoveLines (OfRecipe (Some 4294967295) (codes "d") (ByText (codes "a"))))) (edit_on 4 (ChangeValue (One None) (codes "+") (edits.Add (codes "=")))) [] ∷ [], ends (Refused 2) (codes "1: refused 4 NoSuch\n4: refused 1 BadArgument name\n") (Some (codes "d: a\n\t# n\n"))) ∷  -- alternatives-060
    (false, 100, codes "c&: ; true\n# \\\n n\nF =  $# b = -O2 \\\n \\\n \n", on_line 1 (Apply (ChangeValue (One None) (codes "F") (edits.Add (codes "-g")))) ∷ on_line 2 (Apply (ChangeValue (One None) (codes "F") (edits.Add (codes "$x")))) ∷ [], ends Done [] (Some (codes "c&: ; true\n# \\\n n\nF =  $# b = -O2 -g $x \\\n \\\n \n"))) ∷  -- alternatives-062
    (true, 100, codes ".RECIPEPREFIX = >\nX = # a \\\\\noverride = \\\n\t\n", Chain (edit_on 1 (ChangeValue (One (Some 2)) (codes "override") (edits.Add (codes "$(t -g)")))) (edit_on 3 (ChangeValue (One None) (codes "X") (edits.Append (codes "b -g")))) [] ∷ [], ends Done [] (Some (codes ".RECIPEPREFIX = >\nX = b -g# a \\\\\noverride = \\\n\t\n"))) ∷  -- alternatives-063
    (true, 100, codes "c:\n", on_line 1 (Apply (RemoveLines (OfRecipe None (codes "d") (ByText (codes "true"))))) ∷ Chain (edit_on 2 (SetRecipe None (codes "c") (ByText (codes "# n")) (codes "# n"))) (edit_on 4 (RemoveLines (OfRecipe None (codes "c") (ByText (codes "# n"))))) [] ∷ on_line 5 (Apply (AddRecipe None (codes "c") (At 4294967295) (codes "say \"q\""))) ∷ [], ends (Refused 2) (codes "1: refused 4 NoSuch\n5: refused 6 Absent\n") (Some (codes "c:\n"))) ∷  -- alternatives-064
    (true, 100, codes "c: a | b\n\ttrue\n\t# n\n\tt\n\t\nifdef A\nX = $x $(u#\nendif\nF = \na.b ?= a\\$ \n", Chain (edit_on 1 (SetRecipe None (codes "c") (ByNumber 4294967295) (codes "e f \\ g"))) (edit_on 2 (ChangeValue (One None) (codes "F") (edits.Append []))) [] ∷ Chain (edit_on 3 (AddRecipe (Some 0) (codes "c") (At 1) (codes "a # b"))) (edit_on 5 (AddRecipe None (codes "c") (At 1) (codes ">a"))) [] ∷ on_line 6 (Apply (AddRecipe None (codes "c") (At 1) (codes "a # b"))) ∷ on_line 7 Undo ∷ tried_on 8 (AddRecipe (Some 4294967295) (codes "c") (At 4294967295) (codes "a")) ∷ on_line 9 (Apply (AddLine (BeforeVar None (codes "F")) (NewRule (codes "$\t") Single []))) ∷ on_line 10 (Apply (ChangeValue (One None) (codes "X") (edits.Append []))) ∷ on_line 11 (Apply (ChangeValue (One (Some 1)) (codes "a.b") (edits.Add (codes "a\\$ ")))) ∷ on_line 12 (Apply (AddRecipe (Some 1) (codes "c") Last [])) ∷ tried_on 13 (ChangeValue (One (Some 1)) (codes "F") (edits.Set (codes "2"))) ∷ [], ends (Refused 3) (codes "9: refused 1 BadArgument targets\n10: refused 1 BadArgument value\n11: refused 1 BadArgument word\n") (Some (codes "c: a | b\n\t>a\n\ttrue\n\t# n\n\tt\n\t\n\t\nifdef A\nX = $x $(u#\nendif\nF = 2\na.b ?= a\\$ \n"))) ∷  -- alternatives-065
    (false, 100, codes "c:: ; true\r\nc: a | b\r\n>rm -f x\r\n>\ttrue\r\n>x \\ y\r\n\r\nc&: a\r\n", on_line 1 (Apply (AddRecipe (Some 3) (codes "c") (At 1) (codes "a"))) ∷ on_line 2 (Apply (SetRecipe (Some 3) (codes "c") (ByText (codes "a")) (codes "true"))) ∷ on_line 3 (Apply (AddRecipe (Some 3) (codes "c") (At 2) (codes "true"))) ∷ on_line 4 (Apply (RemoveLines (OfRule (Some 3) (codes "c")))) ∷ [], ends Done [] (Some (codes "c:: ; true\r\nc: a | b\r\n>rm -f x\r\n>\ttrue\r\n>x \\ y\r\n\r\n"))) ∷  -- alternatives-066
    (false, 100, codes "ifdef A\nF?= $(a b)# \\\n d\nelse\na.b != \nendif\nd: # c\n\tx \\ y\n\tb\nifdef A\nX::=b \\ b \nelse\nX =b b x=1 #\nendif\n", on_line 1 (Apply (ChangeValue (One (Some 2)) (codes "F") (edits.Set []))) ∷ tried_on 2 (RemoveLines (OfAssign None (codes "override"))) ∷ tried_on 3 (ChangeValue (One (Some 2)) (codes "X") (edits.Append (codes "x=1"))) ∷ tried_on 4 (ChangeValue (One None) (codes "F") (edits.Add (codes "b"))) ∷ on_line 5 (Apply (RemoveLines (OfAssign None (codes "F")))) ∷ [], ends (Refused 1) (codes "1: refused 4 NoSuch\n") None) ∷  -- alternatives-068
    (false, 100, codes "F::= a b \\\n$# # \\\n d\nX=\\\\\\\\ $x# a \\\\\noverride= Ã©\t-g x=1 -g\nX :=-g -g", on_line 1 Undo ∷ on_line 2 (Apply (ChangeValue (One None) (codes "X") (edits.Add (codes "$(t -g)")))) ∷ tried_on 3 (RemoveLines (OfAssign (Some 1) (codes "X"))) ∷ on_line 4 Redo ∷ on_line 5 End ∷ [], ends (Refused 1) (codes "1: refused 16 NothingToUndo\n") None) ∷  -- alternatives-069
    (false, 100, codes "c:\nd: ; true\n\ttrue\n\t\n\t\\\n\n\ttrue\n", on_line 1 (Apply (AddRecipe (Some 1) (codes "d") (At 5) (codes "# n"))) ∷ on_line 2 (Apply (ChangePrereqs None (codes "d") (AddPrereq true (codes "a&b")))) ∷ on_line 3 (Apply (RemoveLines (OfRecipe None (codes "d") (ByText (codes "# n"))))) ∷ on_line 4 (Apply (AddRecipe (Some 1) (codes "c") (At 1) (codes "ifdef Q"))) ∷ [], ends Done [] (Some (codes "c:\n\tifdef Q\nd: | a&b ; true\n\ttrue\n\t\n\t\\\n\n\ttrue\n"))) ∷  -- alternatives-070
    (true, 100, codes "c:\n\t\n\t\ttrue\n\tb\n", on_line 1 (Apply (SetRecipe None (codes "c") (ByText (codes "b")) (codes "x \\ y"))) ∷ on_line 2 (Apply (AddRecipe None (codes "c") (At 3) (codes "x \\ y"))) ∷ on_line 3 (Apply (SetRecipe None (codes "c") (ByText []) (codes ">a"))) ∷ on_line 4 (Apply (AddRecipe None (codes "c") (At 3) (codes " a"))) ∷ Chain (edit_on 5 (RemoveLines (OfAssign None (codes "a.b")))) (edit_on 6 (SetRecipe None (codes "c") (ByText (codes "x \\ y")) (codes "true"))) ((edit_on 8 (ChangeValue (One None) (codes "F") (edits.Append (codes "=")))) ∷ (edit_on 9 (AddRecipe (Some 1) (codes "c") (At 5) (codes "a # b"))) ∷ []) ∷ [], ends (Refused 1) (codes "6: refused 5 Ambiguous 2\n") (Some (codes "c:\n\t>a\n\t\ttrue\n\t a\n\tx \\ y\n\tx \\ y\n"))) ∷  -- alternatives-071
    (true, 100, codes "ifdef\\\\\n:=\\\\\\ \nc: ; true\n>a # b\n># n\n>say \"q\"\nF =x=1 $(a\tb) -O2\n", on_line 1 (Apply (RemoveLines (OfAssign None (codes "F")))) ∷ on_line 2 (Apply (SetRecipe None (codes "c") (ByText (codes "a")) [])) ∷ tried_on 3 (ChangeValue (One None) (codes "override") (edits.Add (codes "a"))) ∷ Chain (edit_on 4 (SetRecipe None (codes "c") (ByText (codes "ifdef Q")) (codes "a"))) (edit_on 5 (AddRecipe (Some 2) (codes "x.o") (At 1) (codes "t"))) ((edit_on 6 (AddRecipe None (codes "c") (At 1) (codes "say \"q\""))) ∷ []) ∷ on_line 7 (Apply (SetRecipe None (codes "c") (ByText (codes " a")) (codes "a"))) ∷ on_line 8 End ∷ on_line 9 (Apply (SetRecipe None (codes "c") (ByText (codes "\ttrue")) (codes "rm -f x"))) ∷ [], ends (Refused 4) (codes "2: refused 6 Absent\n7: refused 6 Absent\n8: refused 19 NoGroup\n9: refused 6 Absent\n") (Some (codes "ifdef\\\\\n:=\\\\\\ \nc: ; true\n>a # b\n># n\n>say \"q\"\n"))) ∷  -- alternatives-072
    (false, 100, codes "c: ;\nendif\n\t\nifdef A\n\n", tried_on 1 (ChangeValue (One None) (codes "X") (edits.Set (codes "x$(a  b) |"))) ∷ tried_on 2 (RemoveLines (OfRecipe None (codes "c") (ByText (codes "a")))) ∷ tried_on 3 (ChangeValue (One None) (codes "a\\=") (edits.Add (codes "a\\ b"))) ∷ [], ends (Refused 1) (codes "3: refused 1 BadArgument name\n") None) ∷  -- alternatives-074
    (false, 100, codes "X =\t#-g\n%.o:: ;\n\ta\\\\\n\t a\n\ta\n", on_line 1 (Apply (SetRecipe None (codes "%.o") (ByText (codes "a\\\\")) (codes "a"))) ∷ on_line 2 (Apply (ChangeValue (One None) (codes "X") (edits.Add (codes "b")))) ∷ on_line 3 Undo ∷ on_line 4 (Apply (ChangeValue (One None) (codes "F") (edits.Append (codes "a")))) ∷ Chain (edit_on 5 (ChangeValue (One (Some 2)) (codes "F") (edits.Append (codes "\\\\a")))) (edit_on 6 (RemoveLines (OfAssign None (codes "a.b")))) [] ∷ on_line 7 (Apply (ChangeValue (One None) (codes "F") (edits.Set (codes "a:b")))) ∷ on_line 9 Cancel ∷ [], ends (Refused 1) (codes "1: refused 1 BadArgument old\n") None) ∷  -- alternatives-075
    (false, 100, codes "F?= \r\nc: a | b", on_line 1 (Apply (AddRecipe None (codes "c") (At 1) (codes "ifdef Q"))) ∷ on_line 2 (Apply (ChangeValue (One None) (codes "F") (edits.Set (codes "x$(a  b)")))) ∷ [], ends Done [] (Some (codes "F?= x$(a  b)\r\nc: a | b\r\n\tifdef Q\r\n"))) ∷  -- alternatives-076
    (true, 100, codes ".RECIPEPREFIX = >\nc&: ; true\nc: # c\nendif\n\t", tried_on 1 (RemoveLines (OfRule (Some 2) (codes "c"))) ∷ on_line 2 (Apply (AddRecipe None (codes "c") (At 1) (codes "t"))) ∷ on_line 3 (Apply (AddRecipe None (codes "c") (At 1) (codes "ifdef Q"))) ∷ Chain (edit_on 4 (RemoveLines (OfRecipe (Some 4294967295) (codes "c") (ByText (codes "t"))))) (edit_on 5 (RemoveLines (OfRecipe None (codes "c") (ByText (codes "t"))))) [] ∷ on_line 6 (Apply (RenameTarget (codes "c") (codes "%.c"))) ∷ Chain (edit_on 7 (RenameTarget (codes "$x") (codes ".PHONY"))) (edit_on 8 (RemoveLines (OfRecipe None (codes "%.c") (ByText (codes "ifdef Q"))))) [] ∷ [], ends Done [] (Some (codes ".RECIPEPREFIX = >\n%.c&: ; true\nendif\n\t"))) ∷  -- alternatives-077
    (false, 100, codes "ifdef A\r\nF\\\r\n= -O2 $(s (b) a)\\\r\na:b\t=\r\nelse\r\na.b\\\r\n= a:b -g\r\nendif\r\nc:\r\n\trm -f x\r\n\t\ttrue\r\n\t>a\r\nexport F\\\r\n!= $# \\\r\nb \\\r\n | x=1 a \r\nF\\\r\n= ; x=1\r\nc: a\r\n\t\ttrue\r\n\ta\r\n\ta", on_line 1 (Apply (RemoveLines (OfRecipe (Some 1) (codes "c") (ByText (codes "rm -f x"))))) ∷ on_line 2 (Apply (SetRecipe None (codes "c") (ByText (codes "true")) (codes "rm -f x"))) ∷ on_line 3 Undo ∷ tried_on 4 (ChangeValue (One None) (codes "override") (edits.Append (codes "$(s (b) a)"))) ∷ on_line 5 (Apply (SetRecipe (Some 1) (codes "c") (ByText (codes "rm -f x")) (codes "say \"q\""))) ∷ tried_on 6 (RemoveLines (OfRecipe (Some 1) (codes "c") (ByText (codes "\ttrue")))) ∷ on_line 7 Redo ∷ on_line 8 (Apply (AddRecipe (Some 2) (codes "c") Last [])) ∷ [], ends (Refused 1) (codes "2: refused 5 Ambiguous 2\n") None) ∷  -- alternatives-078
    (true, 100, codes "%.o&: # c\r\n \\\r\n &:\ta.b \\\r\n :::=\r\nc::\r\n>rm -rf x\r\n>\ttrue", tried_on 1 (AddRecipe None (codes "%.o") (At 1) (codes "b")) ∷ tried_on 2 (RemoveLines (OfRecipe (Some 0) (codes "c") (ByText (codes "x \\ y")))) ∷ on_line 3 (Apply (AddLine (BeforeRule None (codes "%.o")) (NewAssign (codes "ifdef") Conditional (codes "t")))) ∷ [], ends Done [] (Some (codes "ifdef ?= t\r\n%.o&: # c\r\n\tb\r\n \\\r\n &:\ta.b \\\r\n :::=\r\nc::\r\n>rm -rf x\r\n>\ttrue"))) ∷  -- alternatives-080
    (false, 100, codes "d: ;\n\ta\n\t\ttrue\n\t\nF = a\\  \\\na\\\n\\\na\\\n ${v a\n\r $\t\t?\n", on_line 1 Undo ∷ Chain (edit_on 2 (RemoveLines (OfRecipe None (codes "d") (ByText (codes "rm -f x"))))) (edit_on 4 (SetRecipe None (codes "d") (ByText (codes "a")) (codes "true"))) [] ∷ on_line 5 (Apply (SetRecipe (Some 1) (codes "d") (ByText (codes "a")) (codes "\ttrue"))) ∷ on_line 6 (Apply (AddRecipe None (codes "d") (At 0) (codes "# n"))) ∷ on_line 7 (Apply (RemoveLines (OfAssign None (codes "X")))) ∷ Chain (edit_on 8 (SetRecipe (Some 2) (codes "d") (ByText (codes "t")) (codes "a # b"))) (edit_on 9 (AddRecipe None (codes "d") (At 1) (codes "a"))) [] ∷ on_line 10 Undo ∷ on_line 11 (Apply (SetRecipe None (codes "d") (ByText []) (codes "true"))) ∷ tried_on 12 (ChangeValue (One None) (codes "X") (edits.Set [])) ∷ tried_on 13 (ChangeValue (One None) (codes "F") (edits.Set (codes "; $(s (b) a)"))) ∷ [], ends (Refused 1) (codes "1: refused 16 NothingToUndo\n") None) ∷  -- alternatives-081
    (false, 100, codes "include&: ;\n\tx \\ y\n\ttrue\n\tt\n\t# n\n", on_line 1 (Apply (AddRecipe (Some 4294967295) (codes "include") (At 1) (codes "b"))) ∷ Chain (edit_on 2 (ChangeValue (One None) (codes "F") (edits.Set (codes ";")))) (edit_on 4 (SetRecipe None (codes "include") (ByText (codes "# n")) (codes "true"))) [] ∷ [], ends (Refused 1) (codes "1: refused 2 Reserved\n") None) ∷  -- alternatives-082
    (false, 100, codes "c:\nF=  b\n \\\n\n", Chain (edit_on 1 (RemoveLines (OfRecipe None (codes "c") (ByText (codes "rm -rf x"))))) (edit_on 2 (RemoveLines (OfAssign None (codes "F")))) [] ∷ tried_on 3 (RemoveLines (OfAssign None (codes "a.b"))) ∷ [], ends Done [] (Some (codes "c:\nF=  b\n \\\n\n"))) ∷  -- alternatives-084
    (false, 100, codes "d: # c\n>rm -f x\n>rm -rf x\n>a", on_line 1 (Apply (AddRecipe None (codes "d") (At 1) (codes ">a"))) ∷ on_line 2 Begin ∷ on_line 3 (Apply (RenameTarget (codes "d") (codes ".PHONY"))) ∷ tried_on 4 (AddLine Bottom (NewAssign (codes "a.b") Append (codes "$x"))) ∷ [], ends Done [] (Some (codes ".PHONY: # c\n\t>a\n>rm -f x\n>rm -rf x\n>a\na.b += $x\n"))) ∷  -- alternatives-085
    (true, 100, codes "d:\n\ttrue\n\t a\n# n", on_line 1 (Apply (RemoveLines (OfRecipe None (codes "d") (ByText (codes "true"))))) ∷ on_line 2 (Apply (AddRecipe None (codes "d") Last (codes "e f \\ g"))) ∷ tried_on 3 (SetRecipe None (codes "d") (ByText (codes " a")) (codes ">a")) ∷ on_line 4 (Apply (SetRecipe None (codes "d") (ByText (codes "e f \\ g")) (codes "say \"q\""))) ∷ on_line 5 (Apply (RemoveLines (OfRecipe None (codes "d") (ByText (codes "say \"q\""))))) ∷ Chain (edit_on 6 (ChangeValue (One None) (codes "F") (edits.Set (codes "b $x")))) (edit_on 8 (SetRecipe None (codes "d") (ByText (codes ">a")) (codes "rm -f x"))) [] ∷ [], ends Done [] (Some (codes "d:\n\trm -f x\n# n"))) ∷  -- alternatives-086
    (false, 100, codes "\n) a | b\n\trm -rf x\n\trm -f x\nelse\n", tried_on 1 (AddRecipe (Some 1) (codes "c") (At 1) (codes "# n")) ∷ tried_on 2 (AddLine Bottom (NewAssign (codes "define") Shell (codes "$# $(s\\)"))) ∷ [], ends Done [] (Some (codes "\n) a | b\n\trm -rf x\n\trm -f x\nelse\ndefine != $# $(s\\)\n"))) ∷  -- alternatives-087
    (true, 100, codes "c: a | b\r\n\r\nc: a\r\n# \\\r\n n\r\n\tifdef Q\r\n\ttrue\r\n", Chain (edit_on 1 (SetRecipe (Some 1) (codes "c") (ByText (codes ">a")) (codes "b"))) (edit_on 3 (RemoveLines (OfRecipe (Some 1) (codes "c") (ByText (codes "say \"q\""))))) [] ∷ [], ends Done [] (Some (codes "c: a | b\r\n\r\nc: a\r\n# \\\r\n n\r\n\tifdef Q\r\n\ttrue\r\n"))) ∷  -- alternatives-088
    (false, 100, codes "$(a b):\t$(f {) t#c \\\r\n d\r\nX =-O2 | \r\nc: ; true\r\n>t\r\n", on_line 1 Undo ∷ on_line 2 (Apply (RemoveLines (OfRecipe (Some 2) (codes "$(a b)") (ByText (codes "true"))))) ∷ [], ends (Refused 1) (codes "1: refused 16 NothingToUndo\n") None) ∷  -- alternatives-089
    (true, 100, codes "F\\\n+=  # \\\n d\n", tried_on 1 (ChangeValue (One None) (codes "F") (edits.Set (codes "\\# ="))) ∷ on_line 2 (Apply (ChangeValue (One None) (codes "F") (edits.Set (codes "a")))) ∷ Chain (edit_on 3 (ChangeValue (One None) (codes "F") (edits.Add (codes "a\\ b")))) (edit_on 4 (ChangeValue (One None) (codes "Y!") (edits.Add (codes "-O2")))) [] ∷ [], ends Done [] (Some (codes "F\\\n+=  a a\\ b# \\\n d\n"))) ∷  -- alternatives-090
    (true, 100, codes "d: a ", tried_on 1 (RemoveLines (OfRecipe (Some 1) (codes "d") (ByNumber 1))) ∷ on_line 2 Begin ∷ on_line 3 (Apply (AddRecipe (Some 4294967295) (codes "d") (At 1) (codes "a"))) ∷ tried_on 4 (RemoveLines (OfRecipe None (codes "d") (ByText (codes "b")))) ∷ on_line 5 (Apply (SetRecipe None (codes "d") (ByText []) (codes "a"))) ∷ on_line 6 (Apply (ChangeValue (One None) (codes "a.b") (edits.Set (codes "a\\ b $(w a)")))) ∷ on_line 7 (Apply (RemoveLines (OfRecipe None (codes "d") (ByNumber 1)))) ∷ on_line 8 Redo ∷ on_line 9 (Apply (AddLine Bottom (NewRule (codes "$(a b)") Single (codes "c")))) ∷ on_line 10 (Apply (ChangeValue (One (Some 4294967295)) (codes "F") (edits.Append (codes "a:b")))) ∷ [], ends (Refused 6) (codes "3: refused 4 NoSuch\n5: refused 6 Absent\n6: refused 4 NoSuch\n7: refused 6 Absent\n8: refused 18 GroupOpen\n10: refused 4 NoSuch\n") (Some (codes "d: a \n$(a b): c\n"))) ∷  -- alternatives-091
    (true, 100, codes "F\\\n=\\# -O2 x=1\\\n\nc: a | b\n\tx \\ y\n\t\ttrue\n", on_line 1 (Apply (RemoveLines (OfRecipe None (codes "c") (ByText (codes "\ttrue"))))) ∷ on_line 2 (Apply (ChangeValue (One None) (codes "F") (edits.Set []))) ∷ on_line 3 (Apply (ChangePrereqs None (codes "c") (AddPrereq true (codes "${g(}")))) ∷ tried_on 4 (RemoveLines (OfRecipe None (codes "c") (ByText (codes "x \\ y")))) ∷ [], ends Done [] (Some (codes "F\\\n=\nc: a | b ${g(}\n"))) ∷  -- alternatives-092
    (true, 100, codes "$(a b) \\\n$(a b) : $(a b) | a -include2\n", Chain (edit_on 1 (SetRecipe None (codes "$(a b)") (ByText (codes "t")) (codes "ifdef Q"))) (edit_on 2 (AddRecipe None (codes "$(a b)") (At 1) (codes "rm -f x"))) [] ∷ on_line 3 (Apply (SetRecipe None (codes "$(a b)") (ByText (codes "ifdef Q")) (codes " a"))) ∷ on_line 4 (Apply (ChangePrereqs None (codes "$(a b)") (AddPrereq true (codes "$(a b)")))) ∷ tried_on 5 (AddRecipe None (codes "$(a b)") (At 1) (codes "true")) ∷ on_line 6 (Apply (RemoveLines (OfRecipe None (codes "$(a b)") (ByText (codes "true"))))) ∷ on_line 7 Undo ∷ on_line 8 (Apply (SetRecipe None (codes "$(a b)") (ByText (codes "true")) (codes "b"))) ∷ on_line 9 (Apply (RemoveLines (OfRecipe None (codes "$(a b)") (ByText (codes "b"))))) ∷ [], ends (Refused 1) (codes "3: refused 6 Absent\n") (Some (codes "$(a b) \\\n$(a b) : $(a b) | a -include2 $(a b)\n"))) ∷  -- alternatives-093
    (true, 100, codes "d: # c\n\trm -rf x\n\ttrue\n\ttrue\n \n$$\tdefine\\\\\n(&$\\a!", on_line 1 (Apply (AddRecipe None (codes "d") Last (codes "$("))) ∷ tried_on 2 (AddRecipe None (codes "d") (At 4) (codes ">a")) ∷ on_line 3 (Apply (AddRecipe None (codes "d") (At 1) (codes "x \\ y"))) ∷ on_line 4 (Apply (RenameTarget (codes "d") (codes "b"))) ∷ [], ends Done [] (Some (codes "b: # c\n\tx \\ y\n\trm -rf x\n\ttrue\n\ttrue\n\t>a\n\t$(\n \n$$\tdefine\\\\\n(&$\\a!"))) ∷  -- alternatives-094
    (true, 100, codes "F = b ; \\\n$   -g  -g \\\n \\\n \nc: ;\n\tifdef Q\n # n\n\ty\r\n\tb\n", on_line 1 Redo ∷ on_line 2 Redo ∷ Chain (edit_on 3 (ChangeValue (One None) (codes "F") (edits.Add (codes "b")))) (edit_on 5 (AddRecipe (Some 4294967295) (codes "c") (At 1) [])) [] ∷ on_line 6 (Apply (AddRecipe None (codes "c") (At 3) (codes "true"))) ∷ on_line 7 (Apply (ChangeValue (One (Some 4294967295)) (codes "F") (edits.Add (codes "$ ")))) ∷ [], ends (Refused 3) (codes "1: refused 17 NothingToRedo\n2: refused 17 NothingToRedo\n7: refused 1 BadArgument word\n") (Some (codes "F = b ; \\\n$   -g  -g \\\n \\\n \nc: ;\n\tifdef Q\n # n\n\ty\r\n\ttrue\n\tb\n"))) ∷  -- alternatives-095
    (true, 100, codes "c: ;\n\t\n\t a\n\tsay \"q\"\noverride\\\n= -O2\\\n-g\n b %.o :%.c \nd:: ; true\n>t\n>\ninclude: ; true\n\ttrue \\\r\n\ttrue\n\t>a\n\tb\n", on_line 1 (Apply (ChangeValue (One None) (codes "override") (edits.Set (codes "${g(} foo")))) ∷ on_line 2 (Apply (ChangeValue (One None) (codes "X") (edits.Set []))) ∷ on_line 3 (Apply (RemoveLines (OfRecipe None (codes "%.o") (ByText (codes "x \\ y"))))) ∷ Chain (edit_on 4 (SetRecipe (Some 0) (codes "c") (ByText (codes "a")) (codes "rm -rf x"))) (edit_on 6 (AddRecipe None (codes "%.o") (At 1) (codes "b"))) [] ∷ on_line 7 (Apply (SetRecipe None (codes "c") (ByText (codes "say \"q\"")) (codes "true"))) ∷ on_line 8 Cancel ∷ [], ends (Refused 3) (codes "2: refused 4 NoSuch\n3: refused 6 Absent\n8: refused 19 NoGroup\n") (Some (codes "c: ;\n\t\n\t a\n\ttrue\noverride\\\n= ${g(} foo\n b %.o :%.c \n\tb\nd:: ; true\n>t\n>\ninclude: ; true\n\ttrue \\\r\n\ttrue\n\t>a\n\tb\n"))) ∷  -- alternatives-096
    (true, 100, codes "override=\t-g\\\r\n\t-O2 #\n%.c\tc ::: ${g(} x.o\t%.c \nc: a | b\na.b= a\\\n -O2#\noverride\\\n=$ a:b | \\\r\n :g a\n", on_line 1 (Apply (ChangeValue (One (Some 2)) (codes "override") (edits.Add (codes "=")))) ∷ Chain (edit_on 2 (RemoveLines (OfRecipe (Some 2) (codes "c") (ByNumber 0)))) (edit_on 4 (AddRecipe (Some 2) (codes "c") (At 1) (codes "b"))) [] ∷ on_line 5 (Apply (RemoveLines (OfRecipe None (codes "c") (ByText (codes "a # b"))))) ∷ Chain (edit_on 6 (AddRecipe None (codes "c") (At 0) (codes "# n"))) (edit_on 8 (AddRecipe (Some 0) (codes "c") (At 1) (codes "a"))) ((edit_on 9 (SetRecipe None (codes "c") (ByText []) [])) ∷ (edit_on 11 (AddLine (AfterVar None (codes "override")) (NewRule (codes "$(f {)") Single (codes "$$ else")))) ∷ []) ∷ [], ends (Refused 2) (codes "4: refused 4 NoSuch\n5: refused 6 Absent\n") (Some (codes "override=\t-g\\\r\n\t-O2 #\n%.c\tc ::: ${g(} x.o\t%.c \nc: a | b\na.b= a\\\n -O2#\noverride\\\n=$ a:b | \\\r\n :g a =\n"))) ∷  -- alternatives-098
    (false, 100, codes "x.o: # c\n", on_line 1 (Apply (AddRecipe None (codes "x.o") (At 1) (codes "# n"))) ∷ on_line 2 (Apply (RemoveLines (OfRecipe None (codes "x.o") (ByText (codes "# n"))))) ∷ on_line 3 (Apply (AddRecipe None (codes "x.o") Last (codes ">"))) ∷ on_line 4 (Apply (SetRecipe None (codes "x.o") (ByText (codes ">")) (codes " a"))) ∷ tried_on 5 (RemoveLines (OfRecipe None (codes "x.o") (ByText (codes " a")))) ∷ on_line 6 (Apply (AddRecipe None (codes "x.o") Last (codes "y # z"))) ∷ [], ends Done [] (Some (codes "x.o: # c\n\ty # z\n"))) ∷  -- alternatives-099
    []

answers_2 : map (λ row. came_to row.0 row.1 row.2 row.3) rows_2 ≡ map (λ row. row.4) rows_2
unfolding digits
answers_2 = refl

abbrev rows_3 : List (Bool × ℕ × List ℕ × List Step × RunResult)
rows_3 =
    (false, 100, codes "c: # c\r\nF\\\n::= ${v a b \\\nb b\\\n;#-g\n.RECIPEPREFIX = >\n", on_line 1 (Apply (ChangeValue (One None) (codes "F") (edits.Set []))) ∷ on_line 2 (Apply (RemoveLines (OfRecipe None (codes "c") (ByNumber 4294967295)))) ∷ on_line 3 (Apply (RemoveLines (OfRecipe None (codes "c") (ByText (codes "true"))))) ∷ [], ends (Refused 1) (codes "2: refused 6 Absent\n") None) ∷  -- alternatives-100
    (false, 100, codes "override!= $(p #) .PHONY\t\nd: ; true\n>\n>a \\\n\tb\noverride ::= \\\\\\\\\\\n\tb a \\\r\n \\\\\\\\ a#\n", on_line 1 (Apply (RemoveLines (OfAssign None (codes "override")))) ∷ on_line 2 (Apply (AddRecipe None (codes "d") (At 1) (codes "a # b"))) ∷ on_line 3 (Apply (AddLine (BeforeRule None (codes "d")) (NewRule (codes "$(q:;=|)") Single (codes "${c} foo")))) ∷ on_line 4 Begin ∷ on_line 5 (Apply (AddRecipe (Some 1) (codes "$(q:;=|)") (At 1) [])) ∷ on_line 6 (Apply (RemoveLines (OfRecipe None (codes "$(q:;=|)") (ByText [])))) ∷ [], ends Done [] (Some (codes "$(q:;=|): ${c} foo\nd: ; true\n\ta # b\n>\n>a \\\n\tb\noverride ::= \\\\\\\\\\\n\tb a \\\r\n \\\\\\\\ a#\n"))) ∷  -- alternatives-101
    (false, 100, codes "F = $  x=1\r\nd: a\r\n\t\r\n\trm -rf x\r\n", on_line 1 (Apply (SetRecipe None (codes "d") (ByNumber 2) (codes "q:=1"))) ∷ on_line 2 (Apply (ChangeValue (One None) (codes "F") (edits.Add (codes "b")))) ∷ Chain (edit_on 3 (ChangeValue (One None) (codes "X") (edits.Set (codes "-g")))) (edit_on 5 (AddRecipe (Some 0) (codes "d") (At 2) (codes "true"))) ((edit_on 6 (RemoveLines (OfRecipe None (codes "d") (ByText (codes "q:=1"))))) ∷ []) ∷ on_line 7 Undo ∷ [], ends Done [] (Some (codes "F = $  x=1 b\r\nd: a\r\n\t\r\n\tq:=1\r\n"))) ∷  -- alternatives-102
    (true, 100, codes "d: # c\r\n\t\r\nifdef A\r\n", Chain (edit_on 1 (ChangeValue (One None) (codes "F") (edits.Append (codes "a:b")))) (edit_on 2 (RemoveLines (OfRecipe None (codes "d") (ByText [])))) [] ∷ [], ends Done [] (Some (codes "d: # c\r\nifdef A\r\n"))) ∷  -- alternatives-103
    (true, 100, codes "F=a\\ #-g\n", on_line 1 (Apply (ChangeValue (One (Some 1)) (codes "F") (edits.Add (codes "a\\ ")))) ∷ [], ends (Refused 1) (codes "1: refused 1 BadArgument word\n") (Some (codes "F=a\\ #-g\n"))) ∷  -- alternatives-104
    (false, 100, codes "F = -O2\nF += -g\n", tried_on 1 (ChangeValue Every (codes "F") (edits.Add (codes "-g"))) ∷ tried_on 2 (ChangeValue Every (codes "F") (edits.Remove (codes "-W"))) ∷ tried_on 3 (ChangeValue Every (codes "Q") (edits.Set (codes "1"))) ∷ tried_on 4 (ChangeValue Every (codes "F") (edits.Remove (codes "-g"))) ∷ [], ends Done [] (Some (codes "F = -O2\nF += \n"))) ∷  -- every-line-behind-try
    (false, 100, codes "F = -O2\nF += -W\n", tried_on 1 (ChangeValue Every (codes "F") (edits.Add (codes "-g"))) ∷ tried_on 2 (ChangeValue Every (codes "F") (edits.Add (codes "-g"))) ∷ [], ends Done [] (Some (codes "F = -O2 -g\nF += -W -g\n"))) ∷  -- every-line-behind-try-a-second-time
    (false, 100, codes "F = -O2\nF += $(a\n", tried_on 1 (ChangeValue Every (codes "F") (edits.Append (codes "-g"))) ∷ [], ends (Refused 1) (codes "1: refused 11 OpenValue\n") None) ∷  -- an-open-value-behind-try-is-told
    (false, 100, codes "X = 1\n", Chain (edit_on 1 (ChangeValue Every (codes "CC") (edits.Set (codes "clang")))) (edit_on 2 (AddLine Bottom (NewAssign (codes "CC") Recursive (codes "clang")))) [] ∷ [], ends Done [] (Some (codes "X = 1\nCC = clang\n"))) ∷  -- every-line-or-a-new-one
    (false, 100, codes "CC = a\nCC = b\n", Chain (edit_on 1 (ChangeValue Every (codes "CC") (edits.Set (codes "clang")))) (edit_on 2 (AddLine Bottom (NewAssign (codes "CC") Recursive (codes "clang")))) [] ∷ [], ends Done [] (Some (codes "CC = clang\nCC = clang\n"))) ∷  -- every-line-where-there-are-some-or-a-new-one
    (false, 100, codes "F = -g\nF += -g\n", Chain (edit_on 1 (ChangeValue Every (codes "F") (edits.Add (codes "-g")))) (edit_on 2 (AddLine Bottom (NewAssign (codes "F") Recursive (codes "-g")))) [] ∷ [], ends Done [] (Some (codes "F = -g\nF += -g\n"))) ∷  -- every-line-has-the-word-ends-a-chain
    (false, 100, codes "X = 1\nX = 2\n", Chain (edit_on 1 (ChangeValue (One None) (codes "A") (edits.Set (codes "1")))) (edit_on 2 (ChangeValue Every (codes "X") (edits.Set (codes "3")))) ((edit_on 3 (ChangeValue Every (codes "Y") (edits.Set (codes "4")))) ∷ []) ∷ [], ends Done [] (Some (codes "X = 3\nX = 3\n"))) ∷  -- every-line-as-the-last-of-a-chain
    (false, 100, codes "X = 1\n", Chain (edit_on 1 (ChangeValue Every (codes "A") (edits.Set (codes "1")))) (edit_on 2 (ChangeValue Every (codes "B") (edits.Set (codes "1")))) [] ∷ [], ends (Refused 1) (codes "2: refused 4 NoSuch\n") None) ∷  -- every-line-as-the-last-of-a-chain-finds-nothing
    (false, 100, codes "X = 1\nX = 2\n", Chain (edit_on 1 (ChangeValue (One None) (codes "A") (edits.Set (codes "1")))) (edit_on 2 (ChangeValue Every (codes "X") (edits.Set (codes "3")))) [] ∷ on_line 3 Undo ∷ [], ends Done [] (Some (codes "X = 1\nX = 2\n"))) ∷  -- every-line-in-a-chain-is-one-edit-for-undo
    (false, 100, codes "F = -g -O2# \\\n d\nF += a:b $(s (b) a)\noverride ?= -g  | \\\\ \\\r\n -g;: ;\n\tsay \"q\"\n\tsay \"q\"\n\ttrue", on_line 1 (Apply (ChangeValue Every (codes "F") (edits.Remove (codes "-g")))) ∷ tried_on 2 (ChangeValue (One (Some 2)) (codes "F") (edits.Remove (codes "a:b"))) ∷ on_line 3 (Apply (ChangeValue Every (codes "F") (edits.Add (codes "-O2")))) ∷ on_line 4 Undo ∷ on_line 5 (Apply (ChangeValue (One (Some 1)) (codes "F") (edits.Add (codes "$(w a)")))) ∷ on_line 6 (Apply (ChangeValue (One (Some 1)) (codes "F") (edits.Remove (codes "$(w a)")))) ∷ [], ends Done [] (Some (codes "F = -O2# \\\n d\nF += $(s (b) a)\noverride ?= -g  | \\\\ \\\r\n -g;: ;\n\tsay \"q\"\n\tsay \"q\"\n\ttrue"))) ∷  -- alternatives-105
    (true, 100, codes "X:=x=1 -g\\\n\t\\\\ \\\nx=1 a:b\nF =$\\\ta  b b # \\\n d\nF::= $(A -g) \\\n\n", tried_on 1 (AddLine (BeforeRule None (codes "%.c")) (NewAssign (codes "Y") Shell (codes "a&b"))) ∷ on_line 2 (Apply (ChangeValue Every (codes "F") (edits.Remove (codes "a")))) ∷ on_line 3 Begin ∷ Chain (edit_on 4 (ChangeValue (One (Some 0)) (codes "F") (edits.Set (codes "x=1")))) (edit_on 5 (ChangeValue (One (Some 0)) (codes "F") (edits.Add (codes "$(A -g)")))) [] ∷ on_line 6 Undo ∷ Chain (edit_on 7 (RemoveLines (OfRule None (codes "$(f {)")))) (edit_on 9 (ChangeValue Every (codes "F") (edits.Remove (codes "-g")))) ((edit_on 11 (ChangeValue (One None) (codes "override") (edits.Set (codes "$(A -g) -g")))) ∷ (edit_on 13 (ChangeValue (One (Some 2)) (codes "F") (edits.Add (codes "a\\ b")))) ∷ []) ∷ tried_on 14 (AddRecipe None (codes "%.o") (At 1) (codes "true")) ∷ [], ends (Refused 3) (codes "2: refused 11 OpenValue\n5: refused 4 NoSuch\n6: refused 18 GroupOpen\n") (Some (codes "X:=x=1 -g\\\n\t\\\\ \\\nx=1 a:b\nF =$\\\ta  b b # \\\n d\nF::= $(A -g) \\\n\n"))) ∷  -- alternatives-106
    (false, 100, codes ".RECIPEPREFIX = >\nCC :::= ${c} t \\\r\n $( # \\\n", on_line 1 (Apply (ChangeValue (One None) (codes "CC") (edits.Add (codes "b")))) ∷ on_line 2 (Apply (RemoveLines (OfRecipe None (codes "c") (ByText (codes "ifdef Q"))))) ∷ Chain (edit_on 3 (RemoveLines (OfAssign None (codes "F")))) (edit_on 4 (ChangeValue (One None) (codes "CC") (edits.Add (codes "b")))) [] ∷ Chain (edit_on 5 (ChangeValue (One None) (codes "override") (edits.Append (codes "-g $(w a)")))) (edit_on 6 (ChangeValue (One None) (codes "CC") (edits.Remove (codes "${c}")))) [] ∷ on_line 7 (Apply (ChangeValue (One None) (codes "CC") (edits.Remove (codes "${c}")))) ∷ [], ends (Refused 1) (codes "1: refused 11 OpenValue\n") None) ∷  -- alternatives-107
    (true, 100, codes "F\\\r\n!=-g #-g\r\nF = x$(a  b) -g \r\nexport a.b =\\\r\na\\\r\n-O2\\\r$ -g # c", tried_on 1 (ChangeValue Every (codes "F") (edits.Remove (codes "="))) ∷ Chain (edit_on 2 (ChangeValue (One (Some 1)) (codes "F") (edits.Add (codes "$\\x")))) (edit_on 4 (ChangeValue (One (Some 2)) (codes "F") (edits.Remove (codes "-g")))) [] ∷ on_line 5 (Apply (RemoveLines (OfAssign (Some 1) (codes "F")))) ∷ on_line 6 End ∷ on_line 7 Redo ∷ on_line 8 Redo ∷ on_line 9 End ∷ tried_on 10 (ChangeValue (One (Some 2)) (codes "F") (edits.Remove (codes "-g"))) ∷ on_line 11 (Apply (ChangeValue (One None) (codes "F") (edits.Remove (codes "a")))) ∷ [], ends (Refused 5) (codes "6: refused 19 NoGroup\n7: refused 17 NothingToRedo\n8: refused 17 NothingToRedo\n9: refused 19 NoGroup\n11: refused 6 Absent\n") (Some (codes "F = x$(a  b) -g \r\nexport a.b =\\\r\na\\\r\n-O2\\\r$ -g # c"))) ∷  -- alternatives-109
    (false, 100, codes "F =\n", tried_on 1 (ChangeValue (One None) (codes "a.b") (edits.Set (codes "a"))) ∷ tried_on 2 (ChangeValue (One None) (codes "F") (edits.Remove (codes "a"))) ∷ on_line 3 (Apply (ChangeValue (One None) (codes "F") (edits.Add (codes "b")))) ∷ on_line 4 Begin ∷ on_line 5 (Apply (ChangeValue (One None) (codes "F") (edits.Add (codes "\\#")))) ∷ on_line 6 (Apply (ChangeValue (One None) (codes "F") (edits.Add (codes "$(s (b) a)")))) ∷ on_line 7 (Apply (ChangeValue (One None) (codes "F") (edits.Add (codes "a")))) ∷ [], ends Done [] (Some (codes "F =b \\# $(s (b) a) a\n"))) ∷  -- alternatives-110
    (true, 100, codes "F?=$(u  a \nd:: ;\n>a\\\n b\n>\n>a # b\n>true\n", on_line 1 (Apply (ChangePrereqs None (codes "d") (RemovePrereq (codes "x.o")))) ∷ on_line 2 (Apply (ChangePrereqs None (codes "$(f {)") (RemovePrereq (codes "d")))) ∷ tried_on 4 (ChangeValue (One None) (codes "F") (edits.Remove (codes "$(u  a "))) ∷ on_line 5 (Apply (ChangeValue (One None) (codes "F") (edits.Add (codes "$(u  a ")))) ∷ on_line 6 (Apply (ChangeValue Every (codes "F") (edits.Remove (codes "$(u  a ")))) ∷ tried_on 7 (RemoveLines (OfRecipe None (codes "d") (ByText (codes "a")))) ∷ on_line 8 (Apply (ChangeValue (One None) (codes "F") (edits.Remove (codes "$(u  a ")))) ∷ tried_on 9 (RemoveLines (OfRule None (codes "d"))) ∷ [], ends (Refused 6) (codes "1: refused 6 Absent\n2: refused 4 NoSuch\n4: refused 1 BadArgument word\n5: refused 1 BadArgument word\n6: refused 1 BadArgument word\n8: refused 1 BadArgument word\n") (Some (codes "F?=$(u  a \n>a\\\n b\n>\n>a # b\n>true\n"))) ∷  -- alternatives-111
    (false, 100, codes "override X = a b# a \\\\\nifdef A\na.b = $(a b) |\\\n a\ta \\\r\n $\\\n#\nelse\nX=\\\n-g\\\n\t-g -g a$\\ \\\n \\\n \nendif\n", tried_on 1 (RemoveLines (OfAssign None (codes "X"))) ∷ tried_on 2 (ChangeValue (One None) (codes "ifdef") (edits.Append [])) ∷ on_line 3 (Apply (ChangeValue (One None) (codes "a.b") (edits.Remove (codes "a")))) ∷ on_line 4 (Apply (RemoveLines (OfAssign None (codes "a.b")))) ∷ Chain (edit_on 5 (ChangeValue (One None) (codes "X") (edits.Add (codes "=")))) (edit_on 7 (ChangeValue Every (codes "override") (edits.Add (codes "b")))) ((edit_on 9 (AddLine Bottom (NewAssign (codes "a.b") Conditional []))) ∷ []) ∷ on_line 10 (Apply (ChangeValue (One None) (codes "a.b") (edits.Set (codes "$(f {) b")))) ∷ tried_on 11 (ChangeValue (One None) (codes "a.b") (edits.Remove (codes "$(f {)"))) ∷ on_line 12 (Apply (ChangeValue (One None) (codes "a.b") (edits.Append (codes "-include2")))) ∷ [], ends (Refused 1) (codes "2: refused 1 BadArgument value\n") None) ∷  -- alternatives-112
    (true, 100, codes "a.b ?= | $(u |# c\n", on_line 1 (Apply (ChangeValue (One None) (codes "a.b") (edits.Set (codes "%.c")))) ∷ on_line 2 Undo ∷ on_line 3 (Apply (ChangeValue Every (codes "a.b") (edits.Set (codes "-g")))) ∷ tried_on 4 (ChangeValue Every (codes "a.b") (edits.Remove (codes "-g"))) ∷ on_line 5 (Apply (ChangeValue Every (codes "a.b") (edits.Append (codes "-O2 a\\ b")))) ∷ [], ends Done [] (Some (codes "a.b ?= -O2 a\\ b\n"))) ∷  -- alternatives-113
    (true, 100, codes "F\\\n?= b\nF = b ${v a\nX\\\n= \\\r\n b \\\n \\\n x=1 \\\r\n $(a b)# \\\n d\r", Chain (edit_on 1 (ChangeValue (One (Some 1)) (codes "F") (edits.Set (codes "$(s\\)")))) (edit_on 3 (RemoveLines (OfAssign (Some 2) (codes "F")))) [] ∷ tried_on 4 (ChangeValue Every (codes "F") (edits.Remove (codes "a"))) ∷ on_line 5 (Apply (ChangeValue (One (Some 1)) (codes "F") (edits.Add (codes "-g")))) ∷ on_line 6 (Apply (ChangeValue Every (codes "F") (edits.Remove (codes "$(s\\)")))) ∷ on_line 7 (Apply (ChangeValue (One (Some 1)) (codes "F") (edits.Remove (codes "-g")))) ∷ on_line 8 (Apply (ChangeValue Every (codes "F") (edits.Set (codes "a b \\#")))) ∷ on_line 9 (Apply (ChangeValue Every (codes "F") (edits.Set (codes "a\\ b")))) ∷ on_line 10 (Apply (ChangeValue (One (Some 1)) (codes "F") (edits.Remove (codes "a\\ b")))) ∷ Chain (edit_on 11 (ChangeValue (One None) (codes "F") (edits.Remove (codes "a\\ b")))) (edit_on 13 (RemoveLines (OfAssign None (codes "CC")))) ((edit_on 15 (ChangeValue (One (Some 1)) (codes "F") (edits.Remove (codes "|")))) ∷ (edit_on 16 (ChangeValue Every (codes "F") (edits.Append (codes "$(A -g) $(s (b) a)")))) ∷ []) ∷ [], ends (Refused 1) (codes "11: refused 5 Ambiguous 2\n") (Some (codes "F\\\n?= \nF = a\\ b\nX\\\n= \\\r\n b \\\n \\\n x=1 \\\r\n $(a b)# \\\n d\r"))) ∷  -- alternatives-114
    (false, 100, codes "export X ?=\\\nb\n", Chain (edit_on 1 (AddLine (BeforeRule None (codes "${g(}")) (NewRule (codes "t") Double (codes "x.o")))) (edit_on 2 (ChangeValue Every (codes "X") (edits.Remove (codes "b")))) [] ∷ Chain (edit_on 3 (ChangeValue Every (codes "F") (edits.Remove (codes "-g")))) (edit_on 4 (ChangeValue (One None) (codes "X") (edits.Remove (codes "a:b")))) ((edit_on 5 (ChangeValue Every (codes "X") (edits.Append []))) ∷ []) ∷ Chain (edit_on 6 (ChangeValue (One None) (codes "X") (edits.Remove (codes "$x")))) (edit_on 8 (ChangeValue Every (codes "X") (edits.Add (codes "${c}")))) [] ∷ tried_on 9 (ChangeValue Every (codes "X") (edits.Remove (codes "-g"))) ∷ on_line 10 (Apply (ChangeValue Every (codes "X") (edits.Append (codes "$\\")))) ∷ [], ends (Refused 1) (codes "10: refused 1 BadArgument value\n") None) ∷  -- alternatives-115
    (false, 100, codes "c&: ; true\nF =a $#\n\ta # b\n\tifdef Q\nifdef A\nF=  \n", on_line 1 (Apply (ChangeValue Every (codes "F") (edits.Remove (codes "a")))) ∷ on_line 2 (Apply (ChangeValue (One (Some 1)) (codes "F") (edits.Remove (codes "$#")))) ∷ on_line 3 (Apply (ChangeValue Every (codes "F") (edits.Append (codes "$(A -g)")))) ∷ on_line 4 (Apply (ChangeValue (One (Some 2)) (codes "F") (edits.Append (codes "b")))) ∷ [], ends Done [] (Some (codes "c&: ; true\nF =$(A -g)\n\ta # b\n\tifdef Q\nifdef A\nF=  $(A -g) b\n"))) ∷  -- alternatives-116
    (true, 100, codes "export F\\\r\n:= ; \\\\\\\\ #\r\noverride override\\\r\n= a a:b a:b \\\r\n \\\r\n -g# a \\\\\r\nc: a\r\n\t\r\n\ttrue\r\n", on_line 1 (Apply (AddRecipe (Some 4294967295) (codes "c") (At 1) (codes "a"))) ∷ Chain (edit_on 2 (ChangeValue (One None) (codes "X") (edits.Set (codes "|")))) (edit_on 4 (SetRecipe None (codes "c") (ByText (codes "x \\ y")) (codes "rm -f x"))) ((edit_on 5 (ChangeValue (One (Some 4294967295)) (codes "override") (edits.Add (codes "b")))) ∷ (edit_on 7 (SetRecipe None (codes "c") (ByText []) (codes "x \\ y"))) ∷ []) ∷ on_line 8 (Apply (ChangeValue (One None) (codes "override") (edits.Add (codes "-O2")))) ∷ on_line 9 (Apply (ChangeValue (One None) (codes "override") (edits.Remove (codes "-O2")))) ∷ on_line 10 Undo ∷ Chain (edit_on 11 (RemoveLines (OfRecipe (Some 0) (codes "c") (ByText (codes "a"))))) (edit_on 12 (ChangeValue (One None) (codes "override") (edits.Remove (codes "$(A -g)")))) ((edit_on 13 (ChangeValue (One None) (codes "override") (edits.Add (codes "-g")))) ∷ (edit_on 14 (ChangeValue Every (codes "override") (edits.Remove (codes "-g")))) ∷ []) ∷ on_line 15 (Apply (AddRecipe None (codes "c") (At 3) (codes "true"))) ∷ [], ends (Refused 1) (codes "1: refused 4 NoSuch\n") (Some (codes "export F\\\r\n:= ; \\\\\\\\ #\r\noverride override\\\r\n= a a:b a:b \\\r\n \\\r\n -g -O2# a \\\\\r\nc: a\r\n\t\r\n\ttrue\r\n\ttrue\r\n"))) ∷  -- alternatives-117
    (false, 100, codes "F?= #-g\nF =\nX := a $(a\tb)#-g\nF = \\ b -O2 \\\n=\n", Chain (edit_on 1 (AddRecipe None (codes "c") (At 1) (codes "a"))) (edit_on 3 (ChangeValue (One (Some 3)) (codes "F") (edits.Add (codes "a")))) [] ∷ on_line 4 Begin ∷ tried_on 5 (RemoveLines (OfAssign None (codes "X"))) ∷ on_line 6 (Apply (ChangeValue (One (Some 3)) (codes "F") (edits.Add (codes "$x")))) ∷ on_line 7 (Apply (ChangeValue (One (Some 3)) (codes "F") (edits.Remove (codes "=")))) ∷ Chain (edit_on 8 (ChangeValue (One (Some 1)) (codes "F") (edits.Add (codes "$(t -g)")))) (edit_on 9 (ChangeValue Every (codes "X") (edits.Remove (codes "\\#")))) ((edit_on 10 (RemoveLines (OfRecipe (Some 1) (codes "c") (ByText (codes "a"))))) ∷ (edit_on 11 (ChangeValue (One (Some 2)) (codes "F") (edits.Add (codes "b")))) ∷ []) ∷ [], ends Done [] (Some (codes "F?= $(t -g)#-g\nF =\nF = \\ b -O2 a $x\n"))) ∷  -- alternatives-118
    (false, 100, codes "F\\\n= ; =\t-O2 \\\r\n a$\\\\\nb\nendef x", on_line 1 (Apply (ChangeValue (One None) (codes "F") (edits.Set (codes "c $(a b)")))) ∷ tried_on 2 (ChangeValue (One None) (codes "F") (edits.Remove (codes "$(a b)"))) ∷ tried_on 3 (SetRecipe None (codes "c") (ByText (codes "t")) (codes " a")) ∷ tried_on 4 (ChangeValue (One (Some 0)) (codes "F") (edits.Add (codes "c"))) ∷ [], ends Done [] (Some (codes "F\\\n= c\nb\nendef x"))) ∷  -- alternatives-119
    (true, 100, codes "F := -g b\nifdef A\nX\\\n+= ; \nelse\nF :=\\\n\\\n-g -g\nendif\n", Chain (edit_on 1 (ChangeValue (One (Some 1)) (codes "F") (edits.Append []))) (edit_on 2 (ChangeValue (One None) (codes "override") (edits.Add (codes "x$(a  b)")))) ((edit_on 3 (ChangeValue Every (codes "F") (edits.Remove (codes "-g")))) ∷ (edit_on 5 (ChangeValue (One None) (codes "X") (edits.Add (codes "-O2")))) ∷ []) ∷ on_line 6 (Apply (ChangeValue (One (Some 1)) (codes "X") (edits.Append (codes "| $x")))) ∷ Chain (edit_on 7 (ChangeValue Every (codes "a.b") (edits.Remove (codes "a$ b")))) (edit_on 8 (ChangeValue (One (Some 2)) (codes "F") (edits.Remove (codes "-g")))) [] ∷ on_line 9 (Apply (ChangeValue Every (codes "X") (edits.Set (codes "$\\x")))) ∷ on_line 10 Begin ∷ on_line 11 (Apply (ChangeValue Every (codes "F") (edits.Remove (codes "b")))) ∷ on_line 12 (Apply (ChangeValue Every (codes "F") (edits.Add (codes "b")))) ∷ on_line 13 (Apply (ChangeValue (One (Some 2)) (codes "F") (edits.Add (codes "${c}")))) ∷ [], ends (Refused 1) (codes "1: refused 1 BadArgument value\n") (Some (codes "F := -g b\nifdef A\nX\\\n+= $\\x \nelse\nF :=\\\n\\\nb ${c}\nendif\n"))) ∷  -- alternatives-120
    (false, 100, codes "a.b= \\\n-O2 -g\t${c} b\nifdef A\nF =# c\nelse\nF ::= b \\\n \\\n -O2 $(t \\\n -g) # c\nendif\n", Chain (edit_on 1 (ChangeValue (One (Some 1)) (codes "F") (edits.Remove (codes "\\#")))) (edit_on 3 (ChangeValue (One (Some 1)) (codes "F") (edits.Add (codes "a$ b")))) ((edit_on 4 (ChangeValue (One (Some 2)) (codes "a.b") (edits.Remove (codes "-g")))) ∷ (edit_on 5 (ChangeValue Every (codes "F") (edits.Add (codes "$(t -g)")))) ∷ []) ∷ on_line 6 (Apply (AddLine (AfterVar None (codes "a.b")) (NewRule (codes "-include2") Double (codes "$(s\\)")))) ∷ on_line 7 Undo ∷ on_line 8 Redo ∷ on_line 9 (Apply (RemoveLines (OfRecipe None (codes "-include2") (ByText (codes " a"))))) ∷ on_line 10 (Apply (ChangeValue Every (codes "F") (edits.Add (codes "-O2")))) ∷ Chain (edit_on 11 (ChangeValue (One None) (codes "X") (edits.Set (codes "a:b")))) (edit_on 13 (ChangeValue (One (Some 2)) (codes "F") (edits.Add (codes "-g")))) [] ∷ tried_on 14 (ChangeValue (One (Some 1)) (codes "F") (edits.Remove (codes "b"))) ∷ [], ends (Refused 1) (codes "9: refused 6 Absent\n") None) ∷  -- alternatives-121
    (true, 100, codes "%.o:\r\n>say \"q\"\r\nF = -g\\\r\n\ta  \\\n", tried_on 2 (AddRecipe None (codes "%.o") (At 4294967295) (codes "say \"q\"")) ∷ Chain (edit_on 3 (RemoveLines (OfRecipe None (codes "%.o") (ByText (codes " a"))))) (edit_on 5 (ChangeValue (One (Some 1)) (codes "F") (edits.Set (codes ";")))) ((edit_on 6 (ChangeValue (One None) (codes "F") (edits.Append (codes "a\\:b :")))) ∷ (edit_on 8 (ChangeValue (One (Some 0)) (codes "$(X)") (edits.Add (codes "a")))) ∷ []) ∷ Chain (edit_on 9 (ChangeValue (One None) (codes "F") (edits.Add (codes "-g")))) (edit_on 10 (RemoveLines (OfRecipe (Some 2) (codes "%.o") (ByText (codes "true"))))) ((edit_on 12 (SetRecipe None (codes "%.o") (ByNumber 2) (codes "t"))) ∷ (edit_on 14 (ChangeValue (One (Some 1)) (codes "F") (edits.Remove (codes "a")))) ∷ []) ∷ on_line 15 (Apply (SetRecipe None (codes "x.o") (ByText (codes "\ttrue")) (codes "a # b"))) ∷ on_line 16 (Apply (RemoveLines (OfRecipe None (codes "%.o") (ByNumber 1)))) ∷ [], ends (Refused 2) (codes "15: refused 4 NoSuch\n16: refused 6 Absent\n") (Some (codes "%.o:\r\n>say \"q\"\r\nF = -g\\\r\n\ta  \\\n"))) ∷  -- alternatives-122
    (false, 100, codes "include: # c\nelse\n\t\ttrue\n\tsay \"q\"\nc: a\n # n\n\t\nc:: a | b\n\ty\r\n\trm -f x\n\ta\\\\\nifdef A\nF!= $x# \\\n d\nelse\nF\\\n+= =\\\n $(A -g)  ; -O2\t\nendif\nx.o:\n # n\n\t a\n\t\ttrue\n", Chain (edit_on 1 (RemoveLines (OfAssign None (codes "X")))) (edit_on 3 (AddRecipe (Some 1) (codes "c") (At 2) (codes "x \\ y"))) [] ∷ on_line 4 (Apply (RemoveLines (OfRecipe None (codes "include") (ByText (codes ">a"))))) ∷ on_line 5 (Apply (AddRecipe (Some 1) (codes "c") Last (codes "define"))) ∷ tried_on 6 (ChangeValue Every (codes "F") (edits.Remove (codes "-g"))) ∷ on_line 7 (Apply (SetRecipe None (codes "d") (ByText (codes "say \"q\"")) (codes "true"))) ∷ on_line 8 (Apply (RemoveLines (OfAssign None (codes "a.b")))) ∷ on_line 9 Redo ∷ on_line 10 (Apply (AddRecipe None (codes "include") (At 2) (codes "rm -f x"))) ∷ on_line 11 (Apply (ChangeValue (One (Some 1)) (codes "F") (edits.Append (codes "a:b $ b")))) ∷ [], ends (Refused 1) (codes "4: refused 2 Reserved\n") None) ∷  -- alternatives-123
    (true, 100, codes "F:= a\\ \n", Chain (edit_on 1 (ChangeValue Every (codes "F") (edits.Append (codes "=")))) (edit_on 2 (ChangeValue (One (Some 4294967295)) (codes "F") (edits.Remove (codes ";")))) ((edit_on 4 (ChangeValue (One (Some 2)) (codes "X") (edits.Set (codes "$(A -g)")))) ∷ (edit_on 5 (ChangeValue Every (codes "F") (edits.Add (codes ";")))) ∷ []) ∷ on_line 6 (Apply (ChangeValue (One None) (codes "F") (edits.Add (codes "\\\\a")))) ∷ on_line 7 (Apply (ChangeValue (One None) (codes "F") (edits.Add (codes "|")))) ∷ Chain (edit_on 8 (ChangeValue (One None) (codes "F") (edits.Remove (codes "${c}")))) (edit_on 9 (ChangeValue (One None) (codes "F") (edits.Add (codes "$(a b)")))) [] ∷ on_line 10 (Apply (AddLine (BeforeVar None (codes "F")) (NewRule (codes "b") Single (codes "a")))) ∷ on_line 11 (Apply (ChangeValue (One None) (codes "F") (edits.Set (codes "$(w a)")))) ∷ on_line 12 (Apply (AddRecipe None (codes "b") (At 1) (codes "b"))) ∷ [], ends Done [] (Some (codes "b: a\n\tb\nF:= $(w a)\n"))) ∷  -- alternatives-124
    (true, 100, codes "a&b : foo |# \r\nexport X:=|\r\nc:\r\nF\\\r\n::= #-g\r\n", Chain (edit_on 1 (ChangeValue (One None) (codes "F") (edits.Remove (codes "-g")))) (edit_on 2 (RemoveLines (OfRule None (codes "a&b")))) [] ∷ tried_on 3 (ChangeValue (One None) (codes "F") (edits.Append (codes "= x$(a  b)"))) ∷ on_line 4 (Apply (ChangeValue Every (codes "F") (edits.Set (codes ";")))) ∷ on_line 5 (Apply (ChangeValue Every (codes "X") (edits.Set []))) ∷ on_line 6 Undo ∷ [], ends Done [] (Some (codes "a&b : foo |# \r\nexport X:=|\r\nc:\r\nF\\\r\n::= ;#-g\r\n"))) ∷  -- alternatives-125
    (false, 100, codes "CC= ", on_line 1 (Apply (ChangeValue (One None) (codes "a\\=") (edits.Add (codes "|")))) ∷ on_line 2 (Apply (AddLine Bottom (NewAssign (codes "t") Recursive (codes "|")))) ∷ on_line 3 (Apply (ChangeValue Every (codes "F") (edits.Remove (codes "-g")))) ∷ on_line 5 (Apply (ChangeValue (One (Some 2)) (codes "t") (edits.Remove (codes "|")))) ∷ Chain (edit_on 6 (RemoveLines (OfAssign None (codes "a.b")))) (edit_on 8 (ChangeValue (One None) (codes "CC") (edits.Add (codes "a\\")))) [] ∷ [], ends (Refused 1) (codes "1: refused 1 BadArgument name\n") None) ∷  -- alternatives-126
    (true, 100, codes "F =  # a \\\\\nifdef A\nF!= b \\\n    -g# a \\\\\nendif", on_line 1 (Apply (AddLine Bottom (NewAssign (codes ">q") Shell (codes "\\#")))) ∷ on_line 2 (Apply (ChangeValue (One None) (codes "X$ ") (edits.Remove (codes "$(a b)")))) ∷ on_line 3 (Apply (RemoveLines (OfAssign (Some 1) (codes "define")))) ∷ on_line 4 (Apply (ChangeValue Every (codes "F") (edits.Remove (codes "b")))) ∷ on_line 5 (Apply (ChangeValue (One (Some 1)) (codes "F") (edits.Add (codes "$(a b)")))) ∷ tried_on 6 (ChangeValue Every (codes "F") (edits.Add (codes "-g"))) ∷ [], ends (Refused 3) (codes "1: refused 1 BadArgument name\n2: refused 1 BadArgument name\n3: refused 4 NoSuch\n") (Some (codes "F =  $(a b) -g# a \\\\\nifdef A\nF!= -g# a \\\\\nendif"))) ∷  -- alternatives-127
    (true, 100, codes "override F= ; \\\r\n \\\r\n ${c}\\\r\na\\\r\n\\\r\n-g $\\ \r\nd:: a\r\n\tb\r\n\t\ttrue\r\n\tifdef Q\r\n\ta\\\r\n b\r\nX\\\r\n= a # c\r\n", Chain (edit_on 1 (SetRecipe None (codes "d") (ByText (codes "rm -f x")) (codes "rm -rf x"))) (edit_on 3 (ChangeValue (One None) (codes "X") (edits.Add (codes "a")))) ((edit_on 5 (ChangeValue (One (Some 4294967295)) (codes "F") (edits.Add (codes "a")))) ∷ (edit_on 6 (ChangeValue (One None) (codes "X") (edits.Remove (codes "a")))) ∷ []) ∷ tried_on 7 (RenameTarget (codes "d") (codes "%.c")) ∷ Chain (edit_on 8 (SetRecipe (Some 1) (codes "%.c") (ByText (codes "rm -rf x")) (codes "rm -rf x"))) (edit_on 10 (ChangeValue (One None) (codes "X") (edits.Add (codes "a")))) [] ∷ on_line 11 (Apply (ChangeValue (One (Some 2)) (codes "F") (edits.Remove (codes "$\\")))) ∷ on_line 12 End ∷ on_line 13 (Apply (ChangeValue Every (codes "F") (edits.Add (codes "b")))) ∷ on_line 14 Undo ∷ on_line 15 Redo ∷ on_line 16 (Apply (ChangeValue (One None) (codes "F") (edits.Remove (codes "a")))) ∷ tried_on 17 (RemoveLines (OfRecipe None (codes "%.c") (ByNumber 3))) ∷ [], ends (Refused 2) (codes "11: refused 1 BadArgument word\n12: refused 19 NoGroup\n") (Some (codes "override F= ; \\\r\n \\\r\n ${c}\\\r\n\\\r\n-g $\\ b \r\n%.c:: a\r\n\tb\r\n\t\ttrue\r\n\ta\\\r\n b\r\nX\\\r\n= a # c\r\n"))) ∷  -- alternatives-128
    (true, 100, codes ".RECIPEPREFIX = >\n\t\n #\0", on_line 1 (Apply (ChangeValue (One None) (codes "F") (edits.Remove (codes "-O2")))) ∷ tried_on 2 (ChangeValue (One None) (codes "F") (edits.Add (codes "b"))) ∷ on_line 3 (Apply (ChangeValue Every (codes "F") (edits.Append (codes "$(A -g) -g")))) ∷ Chain (edit_on 4 (ChangeValue Every (codes "a.b") (edits.Set (codes "-g")))) (edit_on 5 (ChangeValue (One None) (codes "F") (edits.Remove (codes "b")))) ((edit_on 6 (ChangeValue (One (Some 1)) (codes "\\#x") (edits.Add (codes ";")))) ∷ []) ∷ [], ends (Refused 3) (codes "1: refused 4 NoSuch\n3: refused 4 NoSuch\n6: refused 1 BadArgument name\n") (Some (codes ".RECIPEPREFIX = >\n\t\n #\0"))) ∷  -- alternatives-129
    (false, 100, codes "c:\r\nendif\n\ta \\\n\tb\n\t>a\n\t>a\nF =$x\n%.o: ; true\n \n\tx \\ y\n\\(+$\nc: ;\n", on_line 1 (Apply (RemoveLines (OfRule None (codes "%.o")))) ∷ on_line 2 Undo ∷ on_line 3 (Apply (AddLine (AfterVar None (codes "F")) (NewRule (codes "foo") Single (codes "$$ %.c")))) ∷ tried_on 4 (ChangeValue (One (Some 4294967295)) (codes "F") (edits.Remove (codes "$x"))) ∷ Chain (edit_on 5 (ChangeValue Every (codes "X") (edits.Append (codes "x$(a  b)")))) (edit_on 7 (ChangeValue (One None) (codes "F") (edits.Set (codes "$\\x a")))) ((edit_on 9 (ChangeValue (One None) (codes "F") (edits.Remove (codes "$x")))) ∷ []) ∷ [], ends Done [] (Some (codes "c:\r\nendif\n\ta \\\n\tb\n\t>a\n\t>a\nF =$\\x a\nfoo: $$ %.c\r\n%.o: ; true\n \n\tx \\ y\n\\(+$\nc: ;\n"))) ∷  -- alternatives-130
    (true, 100, codes "d: ; true\n\tt\n\ttrue\nF\\\n!=$(A -g) \\\r\n a:b#-g\ninclude: a\nF+= x=1 \\\nb# \\\n d\n\tb\n\n", Chain (edit_on 1 (ChangeValue (One (Some 0)) (codes "override") (edits.Add (codes "$(A -g)")))) (edit_on 2 (SetRecipe (Some 4294967295) (codes "d") (ByText (codes "say \"q\"")) (codes "ifdef Q"))) ((edit_on 4 (ChangeValue (One (Some 2)) (codes "F") (edits.Remove (codes "b")))) ∷ []) ∷ on_line 5 Begin ∷ on_line 6 (Apply (ChangeValue (One (Some 2)) (codes "F") (edits.Remove (codes "x=1")))) ∷ tried_on 7 (ChangeValue (One (Some 1)) (codes "F") (edits.Set (codes "-g"))) ∷ on_line 8 (Apply (AddRecipe None (codes "d") (At 3) (codes "x \\ y"))) ∷ tried_on 9 (ChangeValue (One (Some 1)) (codes "F") (edits.Set (codes "2"))) ∷ tried_on 10 (AddLine Bottom (NewAssign (codes "a.b") PosixSimple (codes "x.o"))) ∷ on_line 11 (Apply (SetRecipe None (codes "d") (ByText (codes "x \\ y")) (codes "true"))) ∷ [], ends Done [] (Some (codes "d: ; true\n\tt\n\ttrue\n\ttrue\nF\\\n!=2#-g\ninclude: a\nF+= # \\\n d\n\tb\n\na.b ::= x.o\n"))) ∷  -- alternatives-131
    (true, 100, codes "ifdef A\noverride F\\\n= a -g  a:b -g -g\nelse\nF ::= b \\\n \\\n a -O2 \\\r\n a:b\nendif\n", Chain (edit_on 1 (ChangeValue Every (codes "F") (edits.Set (codes "\\#")))) (edit_on 3 (AddLine Bottom (NewRule (codes "$(u") Single []))) [] ∷ Chain (edit_on 4 (ChangeValue (One None) (codes "X") (edits.Set (codes "${c}")))) (edit_on 6 (ChangeValue Every (codes "F") (edits.Set (codes "a")))) ((edit_on 7 (ChangeValue (One (Some 1)) (codes "F") (edits.Remove (codes "\\#")))) ∷ []) ∷ on_line 8 (Apply (ChangeValue (One (Some 2)) (codes "F") (edits.Add (codes "-g")))) ∷ Chain (edit_on 9 (ChangeValue (One None) (codes "F") (edits.Remove (codes "a")))) (edit_on 10 (ChangeValue (One (Some 1)) (codes "F") (edits.Remove (codes "a")))) [] ∷ Chain (edit_on 11 (ChangeValue (One (Some 2)) (codes "override") (edits.Set (codes "-g")))) (edit_on 13 (ChangeValue (One None) (codes "F") (edits.Set (codes "$(p #)")))) ((edit_on 14 (ChangeValue Every (codes "F") (edits.Set []))) ∷ []) ∷ on_line 15 (Apply (AddLine (BeforeVar (Some 2) (codes "F")) (NewRule (codes "t $$") Single (codes "${c} a&b")))) ∷ on_line 16 (Apply (RemoveLines (OfAssign (Some 2) (codes "F")))) ∷ on_line 17 (Apply (RemoveLines (OfAssign None (codes "F")))) ∷ on_line 18 (Apply (RemoveLines (OfRecipe None (codes "$$") (ByText (codes "# n"))))) ∷ [], ends (Refused 3) (codes "9: refused 5 Ambiguous 2\n13: refused 5 Ambiguous 2\n18: refused 6 Absent\n") (Some (codes "ifdef A\nelse\nt $$: ${c} a&b\nendif\n"))) ∷  -- alternatives-132
    (false, 100, codes "a.b =$(w \\\n a)\\\n\\\n=\na.b\\\n+= -O2 a =\n", on_line 1 (Apply (ChangeValue Every (codes "a.b") (edits.Remove (codes "=")))) ∷ Chain (edit_on 2 (RemoveLines (OfAssign (Some 2) (codes "F")))) (edit_on 4 (ChangeValue Every (codes "a.b") (edits.Remove (codes "=")))) [] ∷ tried_on 5 (AddRecipe (Some 1) (codes "d") (At 1) (codes "true")) ∷ Chain (edit_on 6 (SetRecipe None (codes "c") (ByText (codes "\ttrue")) (codes "say \"q\""))) (edit_on 7 (ChangeValue (One (Some 1)) (codes "a.b") (edits.Remove (codes "x$(a  b)")))) ((edit_on 9 (ChangeValue (One None) (codes "X") (edits.Set (codes "-g")))) ∷ (edit_on 10 (ChangeValue Every (codes "a.b") (edits.Add (codes "$(t -g)")))) ∷ []) ∷ on_line 11 (Apply (ChangeValue Every (codes "a.b") (edits.Remove (codes "-O2")))) ∷ on_line 12 Redo ∷ on_line 13 (Apply (AddLine Bottom (NewRule (codes "${c}") Double []))) ∷ tried_on 14 (RemoveLines (OfRecipe None (codes "${c}") (ByText (codes "ifdef Q")))) ∷ on_line 15 (Apply (AddLine (BeforeRule None (codes "${c}")) (NewRule (codes "$(f {)") Single (codes "-include2")))) ∷ on_line 16 (Apply (AddLine Bottom (NewAssign (codes "a.b") Append (codes "b -include2")))) ∷ [], ends (Refused 1) (codes "12: refused 17 NothingToRedo\n") None) ∷  -- alternatives-133
    (true, 100, codes "F != \n", on_line 2 (Apply (ChangeValue (One None) (codes "F") (edits.Append (codes "1")))) ∷ tried_on 3 (RemoveLines (OfAssign None (codes "X"))) ∷ Chain (edit_on 4 (RemoveLines (OfAssign None (codes "a.b")))) (edit_on 6 (AddLine Bottom (NewAssign (codes "a.b") PosixSimple (codes "\\#")))) [] ∷ Chain (edit_on 7 (ChangeValue (One None) (codes "a.b") (edits.Remove (codes "a\\ b")))) (edit_on 8 (ChangeValue (One None) (codes "F") (edits.Add (codes "a")))) ((edit_on 9 (ChangeValue Every (codes "a.b") (edits.Append (codes "a")))) ∷ []) ∷ Chain (edit_on 10 (ChangeValue Every (codes "a.b") (edits.Remove (codes "\\#")))) (edit_on 12 (RemoveLines (OfAssign None (codes "F")))) [] ∷ Chain (edit_on 13 (ChangeValue (One None) (codes "a.b") (edits.Remove (codes "b")))) (edit_on 14 (ChangeValue (One None) (codes "F") (edits.Add (codes "$x")))) [] ∷ on_line 15 (Apply (ChangeValue (One None) (codes "F") (edits.Add (codes "=")))) ∷ [], ends Done [] (Some (codes "F != 1 =\na.b ::= \n"))) ∷  -- alternatives-134
    (true, 100, codes "export endef := 1 \\\nb $  \nF\\\n=$(A -g) \\\n    -g\nF = -g #-g\nc: a | b\n\t\n", on_line 1 (Apply (AddRecipe None (codes "c") (At 1) (codes " a"))) ∷ on_line 2 (Apply (SetRecipe None (codes "c") (ByText []) [])) ∷ tried_on 3 (ChangeValue Every (codes "F") (edits.Append [])) ∷ tried_on 4 (ChangeValue Every (codes "F") (edits.Remove (codes "-g"))) ∷ on_line 5 (Apply (ChangeValue (One (Some 1)) (codes "F") (edits.Remove (codes "$(A -g)")))) ∷ on_line 6 Undo ∷ on_line 7 (Apply (ChangeValue Every (codes "F") (edits.Remove (codes "$(A -g)")))) ∷ tried_on 8 (ChangeValue (One (Some 2)) (codes "F") (edits.Remove (codes "$(t -g)"))) ∷ on_line 9 (Apply (ChangeValue (One (Some 1)) (codes "F") (edits.Append (codes "a&b")))) ∷ [], ends (Refused 1) (codes "3: refused 1 BadArgument value\n") (Some (codes "export endef := 1 \\\nb $  \nF\\\n=a&b\nF = #-g\nc: a | b\n\t a\n\t\n"))) ∷  -- alternatives-135
    (false, 100, codes "a.b\\\r\n::= $(a b) \\\r\n ;\\\r\n a\\  \\\r\n -g x$(a  b)#\r\nifdef A\r\nX\\\r\n= $x# c\r\nelse\r\nX =\r\nendif\r\nX = $(w \\\r\n a) = | \\\r\n    -g#\r\nF+= \\\r\n a \\\r\na |#-g\r\nd: ; true\r\n\t# n\r\n\t>a\r\n\t>a", on_line 1 (Apply (ChangeValue (One (Some 1)) (codes "X") (edits.Remove (codes "$x")))) ∷ on_line 2 (Apply (ChangeValue (One (Some 3)) (codes "X") (edits.Remove (codes "$(w a)")))) ∷ [], ends Done [] (Some (codes "a.b\\\r\n::= $(a b) \\\r\n ;\\\r\n a\\  \\\r\n -g x$(a  b)#\r\nifdef A\r\nX\\\r\n= # c\r\nelse\r\nX =\r\nendif\r\nX = = | \\\r\n    -g#\r\nF+= \\\r\n a \\\r\na |#-g\r\nd: ; true\r\n\t# n\r\n\t>a\r\n\t>a"))) ∷  -- alternatives-136
    (true, 100, codes "F\\\n?= \\# \\\n    ${c}\nifdef A\nF ?= b ${c} $$\nelse\na.b = \\\\\\\\ $(s (b) a) a\\$\\\n b#-g\nendif\n", Chain (edit_on 1 (ChangeValue (One None) (codes "a.b") (edits.Remove (codes "$(a b)")))) (edit_on 2 (ChangeValue Every (codes "F") (edits.Add (codes "$(s (b) a)")))) ((edit_on 3 (ChangeValue (One (Some 1)) (codes "F") (edits.Remove (codes "$(A -g)")))) ∷ (edit_on 4 (AddLine (AfterVar None (codes "F")) (NewRule (codes "$(p #)") Double []))) ∷ []) ∷ [], ends Done [] (Some (codes "F\\\n?= \\# \\\n    ${c}\nifdef A\nF ?= b ${c} $$\nelse\na.b = \\\\\\\\ $(s (b) a) a\\$\\\n b#-g\nendif\n"))) ∷  -- alternatives-137
    (false, 100, codes "override X\\\n+= a$   $(A -g)\\\n\t$  \\\n \\\n ", on_line 1 (Apply (ChangeValue Every (codes "X") (edits.Append (codes "$ b")))) ∷ Chain (edit_on 2 (ChangeValue (One None) (codes "F") (edits.Set []))) (edit_on 4 (ChangeValue Every (codes "X") (edits.Remove (codes "-g")))) ((edit_on 5 (ChangeValue Every (codes "X") (edits.Set (codes "${c} $\\x")))) ∷ []) ∷ on_line 6 (Apply (AddLine (AfterVar None (codes "X")) (NewRule (codes "a&b") Single []))) ∷ Chain (edit_on 7 (ChangeValue (One (Some 2)) (codes "override") (edits.Append (codes "b")))) (edit_on 9 (ChangeValue (One None) (codes "X") (edits.Remove (codes "$ $ b")))) [] ∷ on_line 10 (Apply (ChangeValue Every (codes "X") (edits.Set (codes "-O2")))) ∷ on_line 11 (Apply (ChangeValue (One (Some 1)) (codes "X") (edits.Add (codes "${c}")))) ∷ tried_on 12 (ChangeValue (One None) (codes "X") (edits.Remove (codes "${c}"))) ∷ on_line 13 (Apply (ChangeValue (One None) (codes "X") (edits.Add (codes "a:b")))) ∷ [], ends Done [] (Some (codes "override X\\\n+= -O2 a:b\na&b:\n"))) ∷  -- alternatives-138
    (true, 100, codes "F = b# a \\\\\noverride= -g a:b -g# a \\\\\nF := \\\na:b a\\\n ; b\\\n -g\n", on_line 1 (Apply (ChangeValue (One (Some 2)) (codes "F") (edits.Remove (codes ";")))) ∷ on_line 2 (Apply (ChangeValue (One (Some 1)) (codes "F") (edits.Remove (codes "b")))) ∷ Chain (edit_on 3 (ChangeValue (One (Some 2)) (codes "F") (edits.Add (codes "b")))) (edit_on 4 (RemoveLines (OfAssign (Some 2) (codes "F")))) [] ∷ on_line 5 Undo ∷ tried_on 6 (RemoveLines (OfAssign (Some 2) (codes "override"))) ∷ on_line 7 Redo ∷ Chain (edit_on 9 (SetRecipe None (codes "%.o") (ByText (codes "\ttrue")) (codes "b"))) (edit_on 11 (ChangeValue (One (Some 4294967295)) (codes "F") (edits.Add (codes "$(t -g)")))) ((edit_on 12 (ChangeValue (One (Some 1)) (codes "F") (edits.Remove (codes "b")))) ∷ (edit_on 13 (ChangeValue Every (codes "F") (edits.Remove (codes "-g")))) ∷ []) ∷ tried_on 14 (SetRecipe None (codes "d") (ByText (codes "rm -rf x")) (codes "rm -f x")) ∷ [], ends Done [] (Some (codes "F = # a \\\\\noverride= -g a:b -g# a \\\\\nF := \\\na:b a b\\\n -g\n"))) ∷  -- alternatives-139
    (false, 100, codes "F ?=  \r\nx.o:: a\nF\\\n=\\\n\t-g |\tb  a#\nc: a\n\tsay \"q\"\nc c: # c\n\ta # b\nF = =\n", on_line 1 Begin ∷ Chain (edit_on 2 (SetRecipe (Some 2) (codes "c") (ByText (codes "a # b")) (codes "t"))) (edit_on 4 (ChangeValue (One (Some 3)) (codes "F") (edits.Add (codes "b")))) [] ∷ on_line 5 (Apply (SetRecipe (Some 1) (codes "c") (ByText (codes "say \"q\"")) (codes ">a"))) ∷ on_line 6 (Apply (ChangeValue (One (Some 2)) (codes "F") (edits.Remove (codes "|")))) ∷ on_line 7 (Apply (ChangeValue (One (Some 1)) (codes "F") (edits.Append (codes "; =")))) ∷ on_line 8 (Apply (ChangeValue Every (codes "F") (edits.Add (codes "b")))) ∷ on_line 9 (Apply (ChangeValue (One (Some 2)) (codes "F") (edits.Set (codes ";")))) ∷ [], ends Done [] (Some (codes "F ?=  ; = b\r\nx.o:: a\nF\\\n=\\\n\t;#\nc: a\n\t>a\nc c: # c\n\tt\nF = = b\n"))) ∷  -- alternatives-140
    (true, 100, codes "X =  \n", tried_on 1 (ChangeValue Every (codes "X") (edits.Append [])) ∷ on_line 2 Undo ∷ on_line 3 (Apply (ChangeValue (One None) (codes "X") (edits.Add (codes "a")))) ∷ on_line 4 (Apply (ChangeValue (One (Some 4294967295)) (codes "X") (edits.Remove (codes "a")))) ∷ on_line 5 (Apply (ChangeValue (One None) (codes "X") (edits.Remove (codes "$\\x")))) ∷ on_line 6 (Apply (ChangeValue (One None) (codes "X") (edits.Add (codes "a")))) ∷ [], ends (Refused 5) (codes "1: refused 1 BadArgument value\n2: refused 16 NothingToUndo\n4: refused 4 NoSuch\n5: refused 6 Absent\n6: refused 7 Already\n") (Some (codes "X =  a\n"))) ∷  -- alternatives-141
    []

answers_3 : map (λ row. came_to row.0 row.1 row.2 row.3) rows_3 ≡ map (λ row. row.4) rows_3
unfolding digits
answers_3 = refl

abbrev rows_4 : List (Bool × ℕ × List ℕ × List Step × RunResult)
rows_4 =
    (false, 100, codes "override override =  \\\r\n#\r\n", tried_on 1 (ChangePrereqs None (codes "$(p #)") (RemovePrereq (codes "$x"))) ∷ tried_on 2 (ChangeValue (One (Some 2)) (codes "define") (edits.Set (codes "${g(} ${c}"))) ∷ on_line 3 Redo ∷ on_line 4 (Apply (ChangeValue Every (codes "override") (edits.Add (codes "=")))) ∷ Chain (edit_on 5 (ChangeValue (One None) (codes "F") (edits.Remove (codes "|")))) (edit_on 6 (ChangeValue Every (codes "override") (edits.Set (codes "b")))) [] ∷ on_line 7 (Apply (ChangeValue (One None) (codes "F") (edits.Append (codes "$\\x")))) ∷ on_line 8 Redo ∷ on_line 9 (Apply (ChangeValue (One None) (codes "override") (edits.Append (codes "$(w a)")))) ∷ [], ends (Refused 1) (codes "3: refused 17 NothingToRedo\n") None) ∷  -- alternatives-143
    (false, 100, codes "c d: ; te\r\nF+=x$(a  b) =# \\\r\n d\r\n", tried_on 1 (ChangeValue (One (Some 1)) (codes "F") (edits.Add (codes "="))) ∷ tried_on 2 (ChangeValue (One (Some 1)) (codes "F") (edits.Remove (codes "x$(a  b)"))) ∷ on_line 3 Undo ∷ [], ends Done [] (Some (codes "c d: ; te\r\nF+=x$(a  b) =# \\\r\n d\r\n"))) ∷  -- alternatives-144
    (true, 100, codes "F +=\\\\\\\\\nifdef A\nF ?= b\nelse\nX := $x x$(a  b)\\\n\t-O2\nendif\nF = -g\ta -g\n", Chain (edit_on 1 (ChangeValue (One (Some 4294967295)) (codes "X") (edits.Remove (codes "-O2")))) (edit_on 2 (ChangeValue Every (codes "X") (edits.Add (codes "x$(a  b)")))) ((edit_on 4 (ChangeValue Every (codes "F") (edits.Add (codes "$(A -g)")))) ∷ []) ∷ on_line 5 (Apply (AddLine (AfterVar None (codes ">q")) (NewRule [] Single (codes "${g(}")))) ∷ on_line 6 (Apply (ChangeValue Every (codes "F") (edits.Append (codes "a\\ b =")))) ∷ [], ends (Refused 1) (codes "5: refused 1 BadArgument place\n") (Some (codes "F +=\\\\\\\\ a\\ b =\nifdef A\nF ?= b a\\ b =\nelse\nX := $x x$(a  b)\\\n\t-O2\nendif\nF = -g\ta -g a\\ b =\n"))) ∷  -- alternatives-145
    (true, 100, codes "F = a a \r\nc:: ; true\r\n \r\n\ta\r\nifdef A\r\nF = ; a\r\nendif\r\nX= a\\\r\n\t-g \r\n", on_line 1 Undo ∷ Chain (edit_on 2 (ChangePrereqs None (codes "c") (AddPrereq false (codes "c")))) (edit_on 3 (ChangeValue (One None) (codes "X") (edits.Set (codes "=")))) ((edit_on 5 (ChangeValue (One None) (codes "X") (edits.Remove (codes "a")))) ∷ []) ∷ tried_on 6 (RemoveLines (OfRecipe None (codes "c") (ByText (codes "a")))) ∷ on_line 7 (Apply (ChangeValue (One (Some 1)) (codes "X") (edits.Set []))) ∷ tried_on 8 (ChangeValue (One (Some 2)) (codes "override") (edits.Set (codes "$ b"))) ∷ on_line 9 Undo ∷ on_line 10 (Apply (AddLine (BeforeRule None (codes "c")) (NewRule (codes "${c} .PHONY") Single []))) ∷ on_line 11 Redo ∷ on_line 12 (Apply (AddRecipe (Some 1) (codes ".PHONY") (At 4294967295) (codes "a"))) ∷ Chain (edit_on 13 (SetRecipe None (codes "${c}") (ByText []) (codes "true"))) (edit_on 15 (ChangeValue Every (codes "F") (edits.Set (codes "$(s (b) a) $ b")))) [] ∷ [], ends (Refused 3) (codes "1: refused 16 NothingToUndo\n11: refused 17 NothingToRedo\n12: refused 6 Absent\n") (Some (codes "F = a a \r\n${c} .PHONY:\r\nc:: c ; true\r\n \r\nifdef A\r\nF = ; a\r\nendif\r\nX= a\\\r\n\t-g \r\n"))) ∷  -- alternatives-146
    (true, 100, codes "F?= \\\r\n    \\ b $(a\tb)# \\\r\n d\r\nc: a\r\nifdef A\r\nF= -g\\\r\n\t; \r\nendif\r\nX\\\r\n=-g\\\r\n\\\r\n-g\r\ninclude c:: a | b\r\n", on_line 1 (Apply (ChangeValue Every (codes "F") (edits.Remove (codes "\\ b")))) ∷ tried_on 2 (ChangeValue (One None) (codes "X") (edits.Add (codes "-g"))) ∷ on_line 3 (Apply (ChangeValue (One (Some 2)) (codes "F") (edits.Add (codes "$(s (b) a)")))) ∷ tried_on 4 (AddRecipe None (codes "c") Last []) ∷ on_line 5 (Apply (ChangeValue Every (codes "F") (edits.Remove (codes "-g")))) ∷ [], ends Done [] (Some (codes "F?= \\\r\n    $(a\tb)# \\\r\n d\r\nc: a\r\n\t\r\nifdef A\r\nF= ; $(s (b) a) \r\nendif\r\nX\\\r\n=-g\\\r\n\\\r\n-g\r\ninclude c:: a | b\r\n"))) ∷  -- alternatives-147
    (false, 100, codes "c: ; true\n\tifdef Q\n\tx \\ y\nF ?= b $  | a \\\n    -O2\nF= =\n", tried_on 1 (AddRecipe (Some 2) (codes "c") (At 1) (codes "# n")) ∷ on_line 2 (Apply (ChangeValue (One (Some 2)) (codes "F") (edits.Remove (codes "=")))) ∷ tried_on 3 (ChangeValue (One (Some 1)) (codes "F") (edits.Set (codes "2"))) ∷ on_line 4 (Apply (RemoveLines (OfRecipe None (codes "c") (ByText (codes "x \\ y"))))) ∷ on_line 5 Undo ∷ Chain (edit_on 6 (RemoveLines (OfAssign None (codes "X")))) (edit_on 7 (ChangeValue Every (codes "F") (edits.Remove (codes "|")))) [] ∷ Chain (edit_on 8 (SetRecipe (Some 2) (codes "c") (ByText (codes "a")) (codes "a"))) (edit_on 9 (ChangeValue (One (Some 1)) (codes "F") (edits.Add (codes "a")))) [] ∷ tried_on 10 (SetRecipe (Some 4294967295) (codes "c") (ByNumber 1) (codes "define")) ∷ on_line 11 (Apply (ChangeValue (One (Some 2)) (codes "F") (edits.Remove (codes "a")))) ∷ [], ends (Refused 1) (codes "11: refused 6 Absent\n") None) ∷  -- alternatives-148
    (true, 100, codes ".RECIPEPREFIX = >\nF\\\n+=${c}\\\n\\\n-g\nc: ;\n\tt\n\t\n\trm -f x\n\\\n# \\\n", on_line 1 (Apply (RemoveLines (OfRule None (codes "c")))) ∷ on_line 2 (Apply (ChangeValue (One None) (codes "F") (edits.Remove (codes "${c}")))) ∷ on_line 3 (Apply (ChangeValue (One None) (codes "F") (edits.Remove (codes "-g")))) ∷ on_line 4 (Apply (ChangeValue (One None) (codes "F") (edits.Add (codes "$(a b)")))) ∷ on_line 5 (Apply (AddLine (BeforeVar None (codes "F")) (NewAssign (codes "endef") Shell (codes "-include2")))) ∷ Chain (edit_on 6 (ChangeValue (One (Some 0)) (codes "F") (edits.Add (codes "$(a b)")))) (edit_on 8 (ChangeValue (One (Some 4294967295)) (codes "endef") (edits.Remove (codes "-include2")))) ((edit_on 9 (AddLine (BeforeVar None (codes "endef")) (NewRule (codes "$(f {)") Double (codes "$(q:;=|)")))) ∷ []) ∷ on_line 10 (Apply (ChangeValue (One None) (codes "F") (edits.Append (codes "$(s (b) a)")))) ∷ on_line 11 Undo ∷ [], ends Done [] (Some (codes ".RECIPEPREFIX = >\n$(f {):: $(q:;=|)\nendef != -include2\nF\\\n+=$(a b)\n\tt\n\t\n\trm -f x\n\\\n# \\\n"))) ∷  -- alternatives-149
    (false, 100, codes "export .b=-g\n", on_line 1 (Apply (ChangeValue (One None) (codes ".b") (edits.Remove (codes "-g")))) ∷ on_line 2 (Apply (ChangeValue Every (codes ".b") (edits.Add (codes "x=1")))) ∷ [], ends Done [] (Some (codes "export .b=x=1\n"))) ∷  -- alternatives-150
    (true, 100, codes "F ::= $# Ã©  ${c}\nF\\\n=$(w \\\n a) -g b\nexport private define E # c\n", tried_on 1 (ChangeValue Every (codes "F") (edits.Remove (codes "$(w a)"))) ∷ tried_on 2 (ChangeValue Every (codes "F") (edits.Add (codes "-g"))) ∷ on_line 3 (Apply (ChangeValue (One (Some 1)) (codes "F") (edits.Set []))) ∷ on_line 4 (Apply (ChangeValue (One (Some 2)) (codes "F") (edits.Remove (codes "-g")))) ∷ Chain (edit_on 5 (ChangeValue (One None) (codes "X") (edits.Set []))) (edit_on 6 (ChangeValue (One (Some 1)) (codes "F") (edits.Set (codes "-g")))) [] ∷ on_line 7 (Apply (ChangeValue (One (Some 1)) (codes "F") (edits.Set (codes "; -include2")))) ∷ on_line 8 Undo ∷ Chain (edit_on 9 (ChangeValue (One (Some 1)) (codes "a.b") (edits.Remove (codes "$(t -g)")))) (edit_on 10 (ChangeValue (One (Some 1)) (codes "F") (edits.Add (codes "$(w a)")))) ((edit_on 11 (ChangeValue Every (codes "F") (edits.Remove (codes "b")))) ∷ []) ∷ [], ends Done [] (Some (codes "F ::= -g $(w a)\nF\\\n=b\nexport private define E # c\n"))) ∷  -- alternatives-151
    (false, 100, codes "${c}\\\n\\\n$(f {) \t:t1 \\\n \\\n = $\\\r\n \\ \\\n \\\n $(f {)\t\nd&: ;\n>say \"q\"\n>t\n>t\nd: # c\nc: # c\n\t>a\n\ta # b\n\tt\n # n\nF= = \\\r\n b \\\n \\\n \n", on_line 1 Begin ∷ Chain (edit_on 2 (SetRecipe None (codes "%.o") (ByText (codes "x \\ y")) (codes "x \\ y"))) (edit_on 4 (SetRecipe None (codes "c") (ByText (codes "t")) (codes "x \\ y"))) [] ∷ Chain (edit_on 5 (ChangeValue (One None) (codes "F") (edits.Add (codes "\\#")))) (edit_on 7 (AddLine (BeforeVar None (codes "F")) (NewAssign (codes "a.b") Simple (codes ":")))) ((edit_on 9 (ChangeValue (One None) (codes "F") (edits.Add (codes "=")))) ∷ (edit_on 10 (ChangeValue (One None) (codes "F") (edits.Add (codes "x$(a  b)")))) ∷ []) ∷ on_line 11 (Apply (ChangeValue Every (codes "F") (edits.Remove (codes "\\#")))) ∷ on_line 12 (Apply (RemoveLines (OfRule (Some 2) (codes "d")))) ∷ tried_on 13 (ChangeValue Every (codes "F") (edits.Remove (codes "-g"))) ∷ [], ends Done [] (Some (codes "${c}\\\n\\\n$(f {) \t:t1 \\\n \\\n = $\\\r\n \\ \\\n \\\n $(f {)\t\nd&: ;\n>say \"q\"\n>t\n>t\nc: # c\n\t>a\n\ta # b\n\tx \\ y\n # n\nF= = \\\r\n b \\\n \\\n \n"))) ∷  -- alternatives-152
    (true, 100, codes "F::=\nifdef A\nX\\\n= a:b\\\n\ta $(u -O2\nelse\nX\\\n= | $ \nendif\noverride= =\\\n | = \\\r\n \\\\\\\\ \\\n    $(a b)\n\t \n", on_line 1 (Apply (ChangeValue (One None) (codes "F") (edits.Add (codes "$ b")))) ∷ on_line 2 (Apply (ChangeValue Every (codes "F") (edits.Remove (codes "$ b")))) ∷ on_line 3 (Apply (ChangeValue (One (Some 1)) (codes "X") (edits.Append (codes ";")))) ∷ on_line 4 End ∷ on_line 5 (Apply (ChangeValue (One (Some 1)) (codes "F") (edits.Add (codes "${c}")))) ∷ on_line 6 Begin ∷ [], ends (Refused 2) (codes "3: refused 11 OpenValue\n4: refused 19 NoGroup\n") (Some (codes "F::=${c}\nifdef A\nX\\\n= a:b\\\n\ta $(u -O2\nelse\nX\\\n= | $ \nendif\noverride= =\\\n | = \\\r\n \\\\\\\\ \\\n    $(a b)\n\t \n"))) ∷  -- alternatives-153
    (false, 100, codes "F\\\n:= -g\\\n\\\nb", on_line 1 (Apply (ChangeValue (One None) (codes "F") (edits.Append []))) ∷ on_line 2 (Apply (RemoveLines (OfAssign None (codes "F")))) ∷ on_line 3 (Apply (RemoveLines (OfRecipe (Some 2) (codes "c") (ByText (codes "true"))))) ∷ Chain (edit_on 4 (ChangeValue (One None) (codes "F") (edits.Add (codes "-g")))) (edit_on 6 (ChangeValue (One None) (codes "F") (edits.Remove (codes "a")))) ((edit_on 7 (ChangeValue (One (Some 1)) (codes "F") (edits.Set (codes "a")))) ∷ (edit_on 8 (ChangeValue (One None) (codes "F") (edits.Remove (codes "$\\x")))) ∷ []) ∷ tried_on 9 (ChangeValue (One None) (codes "X") (edits.Remove (codes "a$ b"))) ∷ [], ends (Refused 1) (codes "1: refused 1 BadArgument value\n") None) ∷  -- alternatives-154
    (true, 100, codes "override= b b b -O2 ", on_line 1 Begin ∷ on_line 2 (Apply (ChangeValue (One None) (codes "override") (edits.Remove (codes "b")))) ∷ on_line 3 (Apply (ChangeValue (One None) (codes "override") (edits.Set (codes "$#")))) ∷ [], ends Done [] (Some (codes "override= $# "))) ∷  -- alternatives-155
    (false, 100, codes ".RECIPEPREFIX = >\n%.o:: ; true\n\ttrue\nifeq (a,b)\n\tt\na.b::= $(s (b) a)\nX = | -O2\\\n\\\n\nc: ; true\n\ta \\\n\tb\nX\\\n::= ", tried_on 1 (SetRecipe None (codes "c") (ByText (codes "t")) (codes ">a")) ∷ on_line 2 (Apply (ChangeValue (One None) (codes "a.b") (edits.Remove (codes "$(s (b) a)")))) ∷ on_line 3 (Apply (AddRecipe None (codes "%.o") (At 1) (codes "a"))) ∷ Chain (edit_on 4 (RemoveLines (OfRecipe None (codes "c") (ByText (codes "true"))))) (edit_on 5 (RemoveLines (OfAssign (Some 2) (codes "X")))) [] ∷ on_line 6 (Apply (ChangeValue (One (Some 1)) (codes "X") (edits.Add (codes "a")))) ∷ [], ends Done [] (Some (codes ".RECIPEPREFIX = >\n%.o:: ; true\n>a\n\ttrue\nifeq (a,b)\n\tt\na.b::= \nX = | -O2 a\\\n\\\n\nc: ; true\n\ta \\\n\tb\nX\\\n::= "))) ∷  -- alternatives-156
    (false, 100, codes "override define ?= .PHONY \na&b -include2 &:: \\\n \\\n  ; %.o $$\\\n\t\\\r\n\nF = \n", on_line 1 (Apply (ChangeValue (One None) (codes "define") (edits.Remove (codes ".PHONY")))) ∷ on_line 2 (Apply (AddLine (BeforeRule None (codes "-include2")) (NewAssign (codes "X") Recursive (codes "${c}")))) ∷ on_line 3 (Apply (ChangeValue (One (Some 1)) (codes "F") (edits.Set []))) ∷ tried_on 4 (SetRecipe (Some 0) (codes "a&b") (ByText (codes "true")) (codes "a # b")) ∷ tried_on 5 (ChangeValue (One None) (codes "F") (edits.Set (codes "$(a b) b"))) ∷ [], ends Done [] (Some (codes "override define ?= \nX = ${c}\na&b -include2 &:: \\\n \\\n  ; %.o $$\\\n\t\\\r\n\nF = $(a b) b\n"))) ∷  -- alternatives-157
    (true, 100, codes "c: ; true\r\n\t\ttrue ", on_line 1 (Apply (RemoveLines (OfRule None (codes "c")))) ∷ Chain (edit_on 2 (ChangeValue (One None) (codes "F") (edits.Remove (codes "-O2")))) (edit_on 4 (AddLine Bottom (NewAssign (codes "Y") Simple (codes "\\$x \\#")))) [] ∷ Chain (edit_on 5 (ChangeValue (One None) (codes "F") (edits.Append (codes "$(w a)")))) (edit_on 6 (ChangeValue (One None) (codes "Y") (edits.Remove (codes "$\\x")))) ((edit_on 7 (ChangeValue (One None) (codes "Y") (edits.Add (codes "$x")))) ∷ []) ∷ [], ends Done [] (Some (codes "Y := \\$x \\#\n"))) ∷  -- alternatives-158
    (true, 100, codes ".RECIPEPREFIX = >\nexport X = \\\n    -g\\\n $(t \\\n -g) \\\n \\\n a \\ \\\n    -O2 \nc: ;\n\tifdef Q\n\tsay \"q\"\nc: a | b\n", on_line 1 (Apply (AddRecipe (Some 1) (codes "c") (At 1) (codes "b"))) ∷ on_line 2 (Apply (ChangeValue (One None) (codes "F") (edits.Append (codes "$(t -g)")))) ∷ tried_on 3 (RemoveLines (OfRecipe None (codes "c") (ByText (codes "say \"q\"")))) ∷ tried_on 4 (ChangeValue Every (codes "$(X)") (edits.Remove (codes "="))) ∷ on_line 5 (Apply (ChangeValue (One None) (codes "X$:") (edits.Add (codes "a")))) ∷ tried_on 6 (ChangeValue (One None) (codes "F") (edits.Add (codes "-O2"))) ∷ [], ends (Refused 4) (codes "2: refused 4 NoSuch\n3: refused 5 Ambiguous 2\n4: refused 1 BadArgument name\n5: refused 1 BadArgument name\n") (Some (codes ".RECIPEPREFIX = >\nexport X = \\\n    -g\\\n $(t \\\n -g) \\\n \\\n a \\ \\\n    -O2 \nc: ;\n>b\n\tifdef Q\n\tsay \"q\"\nc: a | b\n"))) ∷  -- alternatives-159
    (false, 100, codes "F\\\n:= a\tx$(a  b) a ;\nc&: a | b\n\trm -f x\nelse\n\t# n\n", tried_on 1 (ChangeValue (One (Some 4294967295)) (codes "X") (edits.Append (codes "a\\ b"))) ∷ on_line 2 Redo ∷ on_line 3 (Apply (ChangePrereqs None (codes "c") (RemovePrereq (codes "a")))) ∷ Chain (edit_on 4 (ChangeValue (One None) (codes "F") (edits.Remove (codes "$x")))) (edit_on 5 (ChangeValue Every (codes "F") (edits.Remove (codes ";")))) [] ∷ on_line 6 (Apply (SetRecipe None (codes "c") (ByText (codes "rm -f x")) (codes "\ttrue"))) ∷ tried_on 7 (ChangeValue (One None) (codes "F") (edits.Remove (codes "a"))) ∷ [], ends (Refused 1) (codes "2: refused 17 NothingToRedo\n") None) ∷  -- alternatives-160
    (true, 100, codes "F\\\n= $(a b) -g\t\\\r", on_line 1 (Apply (AddLine Bottom (NewAssign (codes "-x_9") Shell (codes "$x ;")))) ∷ Chain (edit_on 2 (ChangeValue (One None) (codes "F") (edits.Remove (codes "\\#")))) (edit_on 3 (AddLine (BeforeRule None (codes "x.o")) (NewAssign (codes "a.b") Simple (codes "$x")))) [] ∷ tried_on 4 (AddLine Bottom (NewRule (codes "a") Double (codes "a&b"))) ∷ on_line 5 (Apply (ChangeValue Every (codes "X$:") (edits.Set (codes "x$(a  b)")))) ∷ on_line 6 (Apply (ChangeValue (One None) (codes "F") (edits.Add (codes "\\#")))) ∷ on_line 7 (Apply (ChangeValue (One None) (codes "a\\=") (edits.Add (codes "$(t -g)")))) ∷ on_line 8 (Apply (AddRecipe None (codes "d") (At 1) (codes "a\\\\"))) ∷ on_line 9 (Apply (ChangeValue (One None) (codes "a\\=") (edits.Remove (codes "x=1")))) ∷ on_line 10 (Apply (AddLine Bottom (NewRule (codes "$x a") Double []))) ∷ [], ends (Refused 9) (codes "1: refused 12 OpenLine\n3: refused 4 NoSuch\n4: refused 12 OpenLine\n5: refused 1 BadArgument name\n6: refused 4 NoSuch\n7: refused 1 BadArgument name\n8: refused 1 BadArgument line\n9: refused 1 BadArgument name\n10: refused 12 OpenLine\n") (Some (codes "F\\\n= $(a b) -g\t\\\r"))) ∷  -- alternatives-161
    (false, 100, codes "x.o: ; true\n\tb\n\trm -f x\nexport F = a a -O2# a \\\\\nX = $(s (b) a)\t\nF\\\n!= = \\\n \\\n ; $(a\tb) \\\\ \\\r\n $# \\\n    \n", tried_on 1 (SetRecipe None (codes "x.o") (ByText (codes "rm -f x")) (codes ">a")) ∷ on_line 2 (Apply (RemoveLines (OfRecipe None (codes "x.o") (ByText (codes "b"))))) ∷ tried_on 3 (ChangeValue Every (codes "F") (edits.Remove (codes "-g"))) ∷ on_line 4 Undo ∷ [], ends Done [] (Some (codes "x.o: ; true\n\tb\n\t>a\nexport F = a a -O2# a \\\\\nX = $(s (b) a)\t\nF\\\n!= = \\\n \\\n ; $(a\tb) \\\\ \\\r\n $# \\\n    \n"))) ∷  -- alternatives-162
    (true, 100, codes "F += -g  $(t \\\n -g)\\\n a\nifdef A\nF ?= \nelse\nX != a:b\\\n\\\n$(t \\\n -g) #\nendif\noverride F = =\n", Chain (edit_on 1 (AddLine (AfterVar None (codes "endef")) (NewRule (codes "-include2") Double (codes "x.o $(a b)")))) (edit_on 2 (ChangeValue (One None) (codes "X") (edits.Set (codes "=")))) [] ∷ on_line 3 (Apply (ChangeValue Every (codes "F") (edits.Remove (codes "$(t -g)")))) ∷ [], ends Done [] (Some (codes "F += -g\\\n a\nifdef A\nF ?= \nelse\nX != = #\nendif\noverride F = =\n"))) ∷  -- alternatives-163
    (false, 100, codes "ifdef A\na.b!= b b\\\nb $(A -g)# c\nendif\n \na.b+= a\\\n\tb\\\n\tb\nx.o:: a | b\n\tb\n\t>a\n\t\ttrue\nF = $x a:b", Chain (edit_on 1 (AddRecipe None (codes "x.o") (At 3) (codes "ifdef Q"))) (edit_on 3 (ChangeValue Every (codes "a.b") (edits.Set (codes "$(w a) $(s (b) a)")))) [] ∷ [], ends Done [] (Some (codes "ifdef A\na.b!= b b\\\nb $(A -g)# c\nendif\n \na.b+= a\\\n\tb\\\n\tb\nx.o:: a | b\n\tb\n\t>a\n\tifdef Q\n\t\ttrue\nF = $x a:b"))) ∷  -- alternatives-164
    (true, 100, codes "X = = -O2 \\\n \\\n $(A -g) ; -g\n", Chain (edit_on 1 (RemoveLines (OfAssign None (codes "F")))) (edit_on 3 (ChangeValue Every (codes "X") (edits.Remove (codes "-g")))) [] ∷ on_line 4 (Apply (ChangeValue (One None) (codes "X") (edits.Add (codes "a:b")))) ∷ tried_on 5 (ChangeValue Every (codes "F") (edits.Append (codes "-O2"))) ∷ on_line 6 (Apply (RemoveLines (OfAssign None (codes "X")))) ∷ on_line 7 (Apply (AddLine Bottom (NewRule (codes "$(s\\)") Double []))) ∷ tried_on 8 (ChangeValue Every (codes "F") (edits.Remove (codes "-g"))) ∷ on_line 9 (Apply (AddRecipe None (codes "$(s\\)") (At 1) (codes "# n"))) ∷ on_line 10 (Apply (RenameTarget (codes "$(s\\)") (codes "t"))) ∷ [], ends Done [] (Some (codes "t::\n\t# n\n"))) ∷  -- alternatives-165
    (false, 100, codes "override = $  -g #-g\r\ninclude: a\r\n>a\r\n", on_line 1 (Apply (ChangeValue (One None) (codes "override") (edits.Remove (codes "a")))) ∷ on_line 2 (Apply (ChangeValue (One None) (codes "override") (edits.Remove (codes "$ ")))) ∷ on_line 3 (Apply (RemoveLines (OfRecipe None (codes "include") (ByNumber 1)))) ∷ tried_on 4 (ChangeValue Every (codes "override") (edits.Append (codes "-O2"))) ∷ on_line 5 (Apply (ChangeValue (One None) (codes "F") (edits.Set (codes "a $(w a)")))) ∷ tried_on 6 (ChangeValue (One (Some 0)) (codes "override") (edits.Add (codes "-O2"))) ∷ on_line 7 (Apply (AddLine (BeforeRule None (codes "include")) (NewAssign (codes "override") Immediate []))) ∷ on_line 8 End ∷ tried_on 9 (ChangeValue (One (Some 1)) (codes "F") (edits.Set (codes "2"))) ∷ [], ends (Refused 1) (codes "1: refused 6 Absent\n") None) ∷  -- alternatives-166
    (true, 100, codes "F ?=\\\n b -g\\\na #-g\nc:: a\nendif\n>true\noverride:=\\\n\\\n# c\noverride ?= a\t\\\\\n\nF\\\n::= $(a b) $\\\n a$  ", tried_on 1 (RemoveLines (OfAssign (Some 1) (codes "F"))) ∷ on_line 2 (Apply (ChangeValue Every (codes "override") (edits.Add (codes "a")))) ∷ on_line 3 Begin ∷ [], ends Done [] (Some (codes "c:: a\nendif\n>true\noverride:=\\\n\\\na# c\noverride ?= a\t\\\\\n\nF\\\n::= $(a b) $\\\n a$  "))) ∷  -- alternatives-167
    (true, 100, codes "X?= -g ; \\\n \\\n -O2 \n", tried_on 1 (ChangeValue (One None) (codes "X") (edits.Remove (codes "-g"))) ∷ on_line 2 (Apply (ChangeValue (One (Some 1)) (codes "X") (edits.Add (codes "$x")))) ∷ Chain (edit_on 3 (ChangeValue (One None) (codes "a.b") (edits.Remove (codes "-g")))) (edit_on 4 (ChangeValue (One (Some 4294967295)) (codes "X") (edits.Add (codes "-O2")))) ((edit_on 5 (ChangeValue (One None) (codes "X") (edits.Remove (codes ";")))) ∷ []) ∷ on_line 6 (Apply (AddLine Bottom (NewAssign (codes "A") PosixSimple (codes "%.o")))) ∷ on_line 7 (Apply (ChangeValue (One None) (codes "A") (edits.Remove (codes "%.o")))) ∷ Chain (edit_on 8 (ChangeValue Every (codes "A") (edits.Remove (codes "-g")))) (edit_on 10 (ChangeValue (One None) (codes "F") (edits.Set []))) ((edit_on 11 (ChangeValue Every (codes "A") (edits.Add (codes "\\#")))) ∷ []) ∷ Chain (edit_on 12 (ChangeValue (One None) (codes "F") (edits.Remove (codes "a")))) (edit_on 13 (ChangeValue (One None) (codes "X") (edits.Remove (codes "-O2")))) [] ∷ tried_on 14 (ChangeValue (One (Some 1)) (codes "X") (edits.Append (codes "x=1"))) ∷ [], ends Done [] (Some (codes "X?= $x x=1 \nA ::= \n"))) ∷  -- alternatives-168
    (false, 100, codes ".RECIPEPREFIX = >\ninclude: ;\n\ta\\\n b\n\tsay \"q\"\nc&: # c\noverride F\\\n!=|\n", on_line 1 (Apply (ChangeValue Every (codes "F") (edits.Add (codes "-g")))) ∷ tried_on 2 (SetRecipe (Some 1) (codes "$x") (ByNumber 0) (codes "\tb")) ∷ on_line 3 (Apply (ChangeValue (One None) (codes "F") (edits.Append (codes ":")))) ∷ on_line 4 Undo ∷ on_line 5 (Apply (ChangeValue Every (codes "F") (edits.Set []))) ∷ on_line 6 (Apply (ChangeValue Every (codes "F") (edits.Add (codes "$(w a)")))) ∷ [], ends Done [] (Some (codes ".RECIPEPREFIX = >\ninclude: ;\n\ta\\\n b\n\tsay \"q\"\nc&: # c\noverride F\\\n!=$(w a)\n"))) ∷  -- alternatives-169
    (false, 100, codes "F != -g \\\n    b $$\\\nb x=1\nX\\\n= \nF = -g\n", Chain (edit_on 1 (AddLine (AfterVar (Some 1) (codes "F")) (NewRule [] Double (codes "${c} .PHONY")))) (edit_on 3 (ChangeValue (One (Some 1)) (codes "F") (edits.Set []))) [] ∷ on_line 4 (Apply (ChangeValue Every (codes "X") (edits.Append (codes "$ b")))) ∷ Chain (edit_on 5 (AddRecipe None (codes "c") (At 1) (codes "say \"q\""))) (edit_on 6 (ChangeValue (One (Some 1)) (codes "F") (edits.Add (codes "\\\\a")))) [] ∷ [], ends (Refused 1) (codes "1: refused 1 BadArgument targets\n") None) ∷  -- alternatives-170
    (false, 100, codes "override := -O2 \\\r\n    $$ #-g\r\nc: ; true\r\n\ta\r\n\t\ttrue", on_line 1 (Apply (RemoveLines (OfAssign None (codes "endef")))) ∷ on_line 2 (Apply (ChangeValue (One None) (codes "override") (edits.Add (codes "a:b")))) ∷ on_line 3 (Apply (RemoveLines (OfRecipe None (codes "c") (ByText (codes "a"))))) ∷ on_line 4 End ∷ on_line 5 (Apply (AddRecipe None (codes "c") (At 4294967295) (codes "true"))) ∷ tried_on 6 (ChangeValue Every (codes "override") (edits.Append (codes "-g"))) ∷ Chain (edit_on 7 (RemoveLines (OfRecipe None (codes "c") (ByNumber 1)))) (edit_on 9 (SetRecipe None (codes "c") (ByNumber 4294967295) (codes "e f \\ g"))) [] ∷ [], ends (Refused 1) (codes "1: refused 4 NoSuch\n") None) ∷  -- alternatives-171
    (true, 100, codes "override define E # c\r\n", tried_on 1 (ChangeValue (One None) (codes "X$ ") (edits.Remove (codes "a"))) ∷ Chain (edit_on 2 (ChangeValue (One (Some 2)) (codes "X") (edits.Add (codes "$ b")))) (edit_on 4 (ChangeValue (One None) (codes "a.b") (edits.Add (codes ";")))) ((edit_on 6 (RemoveLines (OfRecipe None (codes "%.o") (ByText (codes "a # b"))))) ∷ []) ∷ Chain (edit_on 7 (ChangeValue Every (codes "F") (edits.Remove (codes "b")))) (edit_on 8 (SetRecipe None (codes "c") (ByText (codes "say \"q\"")) (codes "rm -f x"))) [] ∷ on_line 9 (Apply (ChangeValue (One (Some 1)) (codes "X") (edits.Add (codes "b")))) ∷ on_line 10 Undo ∷ on_line 11 (Apply (ChangeValue (One (Some 0)) (codes "F") (edits.Set (codes "-g")))) ∷ on_line 12 (Apply (RemoveLines (OfRecipe None (codes "c") (ByText (codes "# n"))))) ∷ tried_on 13 (ChangeValue (One None) (codes "Y!") (edits.Remove (codes " a"))) ∷ on_line 14 Undo ∷ [], ends (Refused 9) (codes "1: refused 1 BadArgument name\n6: refused 4 NoSuch\n8: refused 4 NoSuch\n9: refused 4 NoSuch\n10: refused 16 NothingToUndo\n11: refused 4 NoSuch\n12: refused 4 NoSuch\n13: refused 1 BadArgument name\n14: refused 16 NothingToUndo\n") (Some (codes "override define E # c\r\n"))) ∷  -- alternatives-172
    (true, 100, codes "F =Ã©\\\r\n \r\nF\\\r\n:= -g\r\n", on_line 1 (Apply (ChangeValue (One (Some 2)) (codes "F") (edits.Set (codes "${c} $\\x")))) ∷ tried_on 2 (ChangeValue (One (Some 1)) (codes "F") (edits.Remove (codes "Ã©"))) ∷ Chain (edit_on 3 (ChangeValue (One (Some 2)) (codes "F") (edits.Remove (codes "-g")))) (edit_on 4 (ChangeValue (One (Some 1)) (codes "F") (edits.Remove (codes "$(A -g)")))) ((edit_on 6 (ChangeValue Every (codes "F") (edits.Remove (codes "$(w a)")))) ∷ (edit_on 7 (ChangeValue (One (Some 2)) (codes "F") (edits.Remove (codes "$\\x")))) ∷ []) ∷ on_line 9 (Apply (ChangeValue Every (codes "F") (edits.Append (codes "x=1")))) ∷ on_line 10 (Apply (RemoveLines (OfAssign (Some 2) (codes "F")))) ∷ on_line 11 (Apply (ChangeValue (One None) (codes "F") (edits.Remove (codes "x=1")))) ∷ [], ends Done [] (Some (codes "F =\r\n"))) ∷  -- alternatives-173
    (false, 100, codes "c: ;\n\tifdef Q\n\ty\r\nF +=; =  $  \n", on_line 1 (Apply (ChangeValue (One None) (codes "F") (edits.Append (codes "a:b")))) ∷ on_line 2 (Apply (AddRecipe (Some 1) (codes "c") (At 2) (codes "b"))) ∷ on_line 3 (Apply (SetRecipe None (codes "c") (ByText (codes "ifdef Q")) [])) ∷ on_line 4 (Apply (ChangeValue Every (codes "F") (edits.Add (codes "-O2")))) ∷ Chain (edit_on 5 (RemoveLines (OfRecipe (Some 0) (codes "c") (ByText (codes " a"))))) (edit_on 7 (ChangeValue (One None) (codes "F") (edits.Add (codes "b")))) [] ∷ on_line 8 (Apply (RemoveLines (OfRule (Some 1) (codes "c")))) ∷ [], ends Done [] (Some (codes "F +=; =  $  a:b -O2 b \n"))) ∷  -- alternatives-174
    (true, 100, codes "ifdef A\na.b+=  \nelse\noverride=\nendif\nc:: ;\n\ta\n\trm -f x\n", tried_on 1 (AddRecipe None (codes "c") (At 3) []) ∷ Chain (edit_on 2 (AddRecipe (Some 2) (codes "c") Last (codes ">"))) (edit_on 4 (SetRecipe (Some 4294967295) (codes "c") (ByText (codes "b")) (codes "a\0"))) [] ∷ on_line 5 Undo ∷ on_line 6 (Apply (ChangeValue (One (Some 4294967295)) (codes "F") (edits.Remove (codes "-g")))) ∷ tried_on 7 (SetRecipe None (codes "c") (ByText (codes "rm -f x")) (codes "a")) ∷ tried_on 8 (ChangeValue (One None) (codes "F") (edits.Set [])) ∷ on_line 9 (Apply (ChangeValue Every (codes "override") (edits.Remove (codes "$ b")))) ∷ on_line 10 (Apply (ChangeValue Every (codes "a.b") (edits.Remove (codes "$(s (b) a)")))) ∷ on_line 11 (Apply (AddRecipe None (codes "c") (At 3) (codes "rm -f x"))) ∷ [], ends (Refused 4) (codes "4: refused 1 BadArgument line\n6: refused 4 NoSuch\n9: refused 6 Absent\n10: refused 6 Absent\n") (Some (codes "ifdef A\na.b+=  \nelse\noverride=\nendif\nc:: ;\n\ta\n\ta\n\trm -f x\n"))) ∷  -- alternatives-175
    (false, 100, codes "x.o:\n\t\ttrue\n.RECIPEPREFIX ?= >", on_line 1 (Apply (RemoveLines (OfAssign None (codes "a.b")))) ∷ on_line 2 (Apply (SetRecipe None (codes "x.o") (ByText (codes "\ttrue")) (codes " a"))) ∷ on_line 3 (Apply (ChangeValue (One None) (codes "F") (edits.Add (codes "|")))) ∷ on_line 4 (Apply (ChangeValue (One None) (codes "override") (edits.Remove (codes "a$ b")))) ∷ on_line 5 (Apply (RemoveLines (OfRecipe (Some 0) (codes "x.o") (ByText (codes "true"))))) ∷ on_line 6 (Apply (RemoveLines (OfRecipe None (codes "x.o") (ByText (codes "\ttrue"))))) ∷ [], ends (Refused 1) (codes "1: refused 3 RecipePrefix\n") None) ∷  -- alternatives-176
    (true, 100, codes "export a.b = \nF ::= a #\nx.o::\n\t\ttrue\n\tt", on_line 1 (Apply (ChangeValue (One None) (codes "a.b") (edits.Remove (codes "$(u")))) ∷ on_line 2 (Apply (SetRecipe None (codes "x.o") (ByText (codes "t")) (codes "rm -f x"))) ∷ on_line 3 Undo ∷ Chain (edit_on 4 (RemoveLines (OfRecipe None (codes "x.o") (ByText (codes "ifdef Q"))))) (edit_on 5 (RenameTarget (codes "x.o") (codes "-include2"))) [] ∷ tried_on 6 (RemoveLines (OfAssign None (codes "F"))) ∷ tried_on 7 (ChangeValue (One (Some 2)) (codes "a.b") (edits.Remove (codes "-g"))) ∷ on_line 8 Begin ∷ tried_on 9 (RemoveLines (OfRecipe (Some 0) (codes "%.o") (ByText []))) ∷ [], ends (Refused 1) (codes "1: refused 1 BadArgument word\n") (Some (codes "export a.b = \nx.o::\n\t\ttrue\n\tt"))) ∷  -- alternatives-177
    (false, 100, codes ">q +=#\\\\\nF\\\n::=\t$x -g a\\ # a \\\\\nd: ;\n>rm -f x\nifdef A\n>x \\ y\nelse\nc&: a | b\n\ta\n\ta\\\n>b\n\ttrue\n", on_line 1 (Apply (AddRecipe None (codes "c") (At 4) (codes "t"))) ∷ on_line 2 (Apply (ChangeValue (One None) (codes "F") (edits.Remove (codes "$x")))) ∷ tried_on 3 (RemoveLines (OfRule None (codes "c"))) ∷ tried_on 4 (RemoveLines (OfRecipe None (codes "d") (ByText (codes "true")))) ∷ Chain (edit_on 5 (AddRecipe (Some 4294967295) (codes "d") (At 1) (codes "rm -f x"))) (edit_on 6 (RemoveLines (OfRecipe (Some 4294967295) (codes "d") (ByText (codes "a"))))) ((edit_on 8 (AddRecipe None (codes "d") (At 1) (codes "ifdef Q"))) ∷ []) ∷ tried_on 9 (ChangeValue (One (Some 1)) (codes "F") (edits.Set (codes "2"))) ∷ on_line 10 Undo ∷ tried_on 11 (AddRecipe (Some 1) (codes "d") (At 1) (codes "\ttrue")) ∷ Chain (edit_on 12 (AddRecipe None (codes "d") (At 2) (codes ">a"))) (edit_on 13 (ChangeValue (One (Some 2)) (codes "override") (edits.Append (codes "-g")))) ((edit_on 14 (ChangeValue (One None) (codes "F") (edits.Add (codes "\\#")))) ∷ []) ∷ [], ends Done [] (Some (codes ">q +=#\\\\\nF\\\n::=\t-g a\\ # a \\\\\nd: ;\n\t\ttrue\n\t>a\n\tifdef Q\n>rm -f x\nifdef A\n>x \\ y\nelse\n"))) ∷  -- alternatives-178
    (true, 100, codes "override X !=$(s (b) a)\\\n\\\nb# \\\n d\nF\\\n= -O2\\\n\t$(w \\\n a)\\\n\tb # a \\\\\n", on_line 1 (Apply (ChangeValue Every (codes "F") (edits.Append (codes "-g =")))) ∷ on_line 2 (Apply (AddLine Bottom (NewRule (codes "c") Single []))) ∷ on_line 3 Undo ∷ on_line 4 (Apply (ChangeValue (One None) (codes "F") (edits.Append (codes "${c} -g")))) ∷ on_line 5 (Apply (ChangeValue Every (codes "X") (edits.Remove (codes "$(s (b) a)")))) ∷ [], ends Done [] (Some (codes "override X !=b# \\\n d\nF\\\n= -O2\\\n\t$(w \\\n a)\\\n\tb -g = ${c} -g # a \\\\\n"))) ∷  -- alternatives-179
    (false, 100, codes "\t", Chain (edit_on 1 (ChangeValue (One (Some 0)) (codes "X") (edits.Add (codes "-g")))) (edit_on 3 (SetRecipe (Some 2) (codes "c") (ByText (codes "\ttrue")) [])) ((edit_on 5 (ChangeValue Every (codes "a.b") (edits.Set (codes "b")))) ∷ (edit_on 7 (AddRecipe None (codes "c") (At 1) (codes "a"))) ∷ []) ∷ on_line 8 Undo ∷ tried_on 9 (ChangeValue (One None) (codes "F") (edits.Add (codes "|"))) ∷ on_line 10 Redo ∷ on_line 11 (Apply (ChangeValue Every (codes "F") (edits.Append []))) ∷ on_line 12 (Apply (ChangeValue (One None) (codes "a.b") (edits.Remove (codes "=")))) ∷ on_line 13 End ∷ on_line 14 (Apply (ChangeValue (One None) (codes "F") (edits.Remove (codes "-g")))) ∷ Chain (edit_on 15 (AddRecipe None (codes "c") (At 1) (codes "a"))) (edit_on 16 (ChangeValue (One None) (codes "X") (edits.Add (codes "$(t -g)")))) [] ∷ [], ends (Refused 1) (codes "7: refused 4 NoSuch\n") None) ∷  -- alternatives-180
    (true, 100, codes "%.o:: ; true\n\tsay \"q\"\n\t a\nendif\n\ttrue\nF != \nF += -g\\\n\t-g \\\n    a:b -g\\\n$\\ \n", tried_on 1 (ChangeValue (One (Some 1)) (codes "F") (edits.Set (codes "2"))) ∷ on_line 2 (Apply (ChangeValue Every (codes "F") (edits.Append (codes "-g")))) ∷ Chain (edit_on 3 (RemoveLines (OfRecipe None (codes "%.o") (ByText (codes " a"))))) (edit_on 5 (AddRecipe (Some 0) (codes "%.o") Last (codes "cÿ"))) ((edit_on 6 (ChangeValue (One None) (codes "a.b") (edits.Set []))) ∷ (edit_on 7 (RemoveLines (OfAssign (Some 2) (codes "F")))) ∷ []) ∷ tried_on 8 (ChangeValue (One (Some 1)) (codes "F") (edits.Append (codes "a$ b"))) ∷ on_line 9 Begin ∷ [], ends Done [] (Some (codes "%.o:: ; true\n\tsay \"q\"\nendif\n\ttrue\nF != 2 -g a$ b\nF += -g\\\n\t-g \\\n    a:b -g\\\n$\\ -g \n"))) ∷  -- alternatives-181
    (false, 100, codes "override == -g -O2#-g\nF = |\\\n a:b \\\n \\\n a\tb b \nF = | $\\ a\n", tried_on 1 (ChangeValue (One (Some 2)) (codes "F") (edits.Set (codes "a"))) ∷ on_line 2 (Apply (ChangeValue Every (codes "F") (edits.Remove (codes "|")))) ∷ on_line 3 (Apply (ChangeValue (One (Some 2)) (codes "F") (edits.Add (codes "$(A -g)")))) ∷ [], ends Done [] (Some (codes "override == -g -O2#-g\nF = a:b \\\n \\\n a\tb b \nF = a $(A -g)\n"))) ∷  -- alternatives-182
    (true, 100, codes "d: ; true\n\tx \\ y\n\ta\\\n b\n\tx \\ y\n\ta\na.b :=\\\n\t-g \n", on_line 1 (Apply (ChangeValue (One None) (codes "a.b") (edits.Remove (codes "a$ b")))) ∷ Chain (edit_on 2 (ChangeValue (One (Some 0)) (codes "a.b") (edits.Remove (codes "-g")))) (edit_on 4 (AddRecipe (Some 0) (codes "d") (At 2) (codes "ifdef Q"))) ((edit_on 5 (RemoveLines (OfRecipe None (codes "d") (ByText (codes "true"))))) ∷ []) ∷ tried_on 6 (ChangePrereqs None (codes "d") (RemovePrereq (codes "$x"))) ∷ [], ends (Refused 1) (codes "1: refused 6 Absent\n") (Some (codes "d: ; true\n\tx \\ y\n\ta\\\n b\n\tx \\ y\n\ta\na.b :=\\\n\t-g \n"))) ∷  -- alternatives-183
    (false, 100, codes "ifdef A\nX::= -g\\\n -O2 = \nelse\nF = |\\\n$(s (b) a)\nendif\nX=-O2 a\\  a ; a\noverride != b a $$ -g#\nF\\\n::=b\\\n$(a b) -O2  ;\n", on_line 1 (Apply (ChangeValue Every (codes "F") (edits.Remove (codes "-g")))) ∷ on_line 2 (Apply (RemoveLines (OfAssign None (codes "F")))) ∷ on_line 3 (Apply (ChangeValue Every (codes "override") (edits.Append (codes "\\\\a")))) ∷ on_line 4 (Apply (ChangeValue (One (Some 1)) (codes "F") (edits.Set (codes "${g(}")))) ∷ on_line 5 Undo ∷ on_line 6 (Apply (ChangeValue Every (codes "F") (edits.Remove (codes "$(s (b) a)")))) ∷ [], ends (Refused 1) (codes "1: refused 6 Absent\n") None) ∷  -- alternatives-184
    (true, 100, codes "ifdef A\nX\\\n= b # \\\n d\nendif\nF\\\n:= -g \\#\nd: a | b\n\tifdef Q\n\ta # b\n\t>a\na.b =-g\\\n a \\ \r\n ;\\\n\t-O2#-g\nx.o&: ;\n", Chain (edit_on 1 (RemoveLines (OfRecipe None (codes "x.o") (ByText (codes "true"))))) (edit_on 2 (ChangeValue (One None) (codes "F") (edits.Remove (codes "a")))) ((edit_on 3 (ChangeValue (One None) (codes "X") (edits.Remove (codes "b")))) ∷ (edit_on 5 (ChangeValue Every (codes "F") (edits.Add (codes "$(s (b) a)")))) ∷ []) ∷ on_line 6 (Apply (ChangeValue (One (Some 1)) (codes "X") (edits.Set (codes ".PHONY")))) ∷ on_line 7 (Apply (ChangeValue Every (codes "F") (edits.Remove (codes "\\#")))) ∷ on_line 8 (Apply (ChangeValue (One None) (codes "F") (edits.Remove (codes "-g")))) ∷ tried_on 9 (ChangeValue (One None) (codes "F") (edits.Remove (codes "x$(a  b)"))) ∷ [], ends Done [] (Some (codes "ifdef A\nX\\\n= .PHONY # \\\n d\nendif\nF\\\n:= \nd: a | b\n\tifdef Q\n\ta # b\n\t>a\na.b =-g\\\n a \\ \r\n ;\\\n\t-O2#-g\nx.o&: ;\n"))) ∷  -- alternatives-185
    (false, 100, codes "F\\\n!= x$(a  b) \nc&: a | b\n\t\n\trm -rf x\nifdef A\nF = $  $(a\tb)\\\n\\\n\nelse\nexport X\\\n::= $x\nendif\n", Chain (edit_on 1 (ChangeValue (One (Some 0)) (codes "X") (edits.Add (codes "a$ b")))) (edit_on 3 (SetRecipe None (codes "d") (ByText []) (codes "ifdef Q"))) ((edit_on 5 (ChangeValue (One (Some 2)) (codes "F") (edits.Remove (codes "$ ")))) ∷ []) ∷ on_line 6 (Apply (ChangeValue (One (Some 2)) (codes "X") (edits.Set (codes "\\#")))) ∷ on_line 7 Begin ∷ Chain (edit_on 8 (ChangeValue Every (codes "F") (edits.Set (codes "-g")))) (edit_on 10 (ChangeValue (One None) (codes "X") (edits.Add (codes "=")))) [] ∷ [], ends (Refused 1) (codes "5: refused 1 BadArgument word\n") None) ∷  -- alternatives-186
    (true, 100, codes ".RECIPEPREFIX = >\nX?= -g# \\\n d\nF\\\n!= x=1 -g# c", Chain (edit_on 1 (ChangeValue Every (codes "X") (edits.Remove (codes "a")))) (edit_on 3 (ChangeValue (One None) (codes "X") (edits.Remove (codes "-g")))) [] ∷ tried_on 4 (RemoveLines (OfAssign None (codes "a.b"))) ∷ on_line 5 (Apply (ChangeValue (One None) (codes "F") (edits.Remove (codes "-g")))) ∷ on_line 6 (Apply (ChangeValue (One None) (codes "X") (edits.Remove (codes "-g")))) ∷ on_line 7 (Apply (ChangeValue Every (codes "X") (edits.Set (codes "$(s (b) a)")))) ∷ tried_on 8 (ChangeValue Every (codes "F") (edits.Add (codes "-g"))) ∷ [], ends Done [] (Some (codes ".RECIPEPREFIX = >\nX?= $(s (b) a)# \\\n d\nF\\\n!= x=1 -g# c"))) ∷  -- alternatives-187
    (false, 100, codes "ifdef A\nF!= -g\\\n\t; -O2 # c\nendif\nd: ; true\nendif\nifdef A\noverride =a$\\ \\\n \\\n $(w \\\n a) a#\n", tried_on 1 (ChangeValue Every (codes "F") (edits.Remove (codes "-g"))) ∷ [], ends Done [] (Some (codes "ifdef A\nF!= ; -O2 # c\nendif\nd: ; true\nendif\nifdef A\noverride =a$\\ \\\n \\\n $(w \\\n a) a#\n"))) ∷  -- alternatives-188
    (true, 100, codes "F\\\n= -g \\\r\n $$ b\nF?= \n&: -x_9 \\\n+=b \n", on_line 1 (Apply (ChangeValue Every (codes "F") (edits.Remove (codes "$$")))) ∷ Chain (edit_on 2 (RemoveLines (OfAssign (Some 2) (codes "F")))) (edit_on 4 (ChangeValue Every (codes "F") (edits.Add (codes "\\#")))) [] ∷ on_line 5 Begin ∷ Chain (edit_on 6 (ChangeValue (One (Some 0)) (codes "F") (edits.Append (codes "-g x$(a  b)")))) (edit_on 7 (ChangeValue (One None) (codes "F") (edits.Add (codes "x=1")))) [] ∷ on_line 8 (Apply (ChangeValue (One None) (codes "F") (edits.Remove (codes "x=1")))) ∷ on_line 9 End ∷ [], ends Done [] (Some (codes "F\\\n= -g b\n&: -x_9 \\\n+=b \n"))) ∷  -- alternatives-189
    (false, 100, codes "X\\\r\n= #", Chain (edit_on 1 (ChangeValue (One None) (codes "F") (edits.Append (codes "-g")))) (edit_on 3 (ChangeValue (One None) (codes "X") (edits.Remove (codes "x=1")))) ((edit_on 4 (ChangeValue (One (Some 4294967295)) (codes "X") (edits.Remove (codes "a\\ b")))) ∷ (edit_on 6 (ChangeValue (One None) (codes "X") (edits.Add (codes "-g")))) ∷ []) ∷ on_line 7 (Apply (ChangeValue (One None) (codes "X") (edits.Add (codes "${c}")))) ∷ Chain (edit_on 8 (ChangeValue Every (codes "X") (edits.Remove (codes "|")))) (edit_on 9 (ChangeValue (One None) (codes "X") (edits.Remove (codes "${c}")))) [] ∷ on_line 10 (Apply (ChangeValue (One None) (codes "X") (edits.Remove (codes "${c}")))) ∷ on_line 11 Begin ∷ Chain (edit_on 12 (ChangeValue (One None) (codes "X") (edits.Remove (codes ";")))) (edit_on 13 (ChangeValue (One None) (codes "X") (edits.Remove (codes "-g")))) ((edit_on 14 (ChangeValue (One None) (codes "X") (edits.Remove (codes "-g")))) ∷ (edit_on 16 (ChangeValue (One (Some 4294967295)) (codes "X") (edits.Remove (codes "a\\ b")))) ∷ []) ∷ [], ends Done [] (Some (codes "X\\\r\n= #"))) ∷  -- alternatives-190
    (true, 100, codes "include::\nF\\\n= x=1 $(w \\\n a) ; \\\n    b\n\tt\n\t\n\t\nX\\\n= -O2 -O2 \\\r\n b = -O2\nc: # c\n\t a\nF = ; ; \\\n \\\n |# c\n", tried_on 1 (ChangeValue (One (Some 2)) (codes "F") (edits.Remove (codes "b"))) ∷ on_line 2 (Apply (SetRecipe None (codes "c") (ByText (codes " a")) (codes "true"))) ∷ on_line 3 (Apply (ChangeValue Every (codes "F") (edits.Add (codes "$(w a)")))) ∷ on_line 4 (Apply (ChangeValue Every (codes "F") (edits.Remove (codes "b")))) ∷ on_line 5 (Apply (ChangeValue (One (Some 1)) (codes "F") (edits.Set (codes "$(q:;=|)")))) ∷ on_line 6 (Apply (ChangeValue (One (Some 1)) (codes "F") (edits.Add (codes "a$ b")))) ∷ [], ends Done [] (Some (codes "include::\nF\\\n= $(q:;=|) a$ b\n\tt\n\t\n\t\nX\\\n= -O2 -O2 \\\r\n b = -O2\nc: # c\n\ttrue\nF = ; ; \\\n \\\n | $(w a)# c\n"))) ∷  -- alternatives-191
    (false, 100, codes "include: a\n\t\ttrue\n\ta\nF\\\n:= -g\\\n\\## \\\n d\n", Chain (edit_on 1 (RemoveLines (OfAssign (Some 0) (codes "F")))) (edit_on 3 (ChangeValue (One None) (codes "F") (edits.Remove (codes "\\#")))) [] ∷ on_line 4 (Apply (ChangeValue Every (codes "F") (edits.Remove (codes "-g")))) ∷ tried_on 5 (RemoveLines (OfAssign None (codes "override"))) ∷ on_line 6 Undo ∷ Chain (edit_on 7 (ChangeValue (One None) (codes "F") (edits.Remove (codes "-O2")))) (edit_on 9 (AddLine (BeforeVar None (codes "F")) (NewRule (codes "b") Double (codes "a&b")))) [] ∷ on_line 10 (Apply (RemoveLines (OfAssign None (codes "F")))) ∷ [], ends Done [] (Some (codes "include: a\n\t\ttrue\n\ta\n"))) ∷  -- alternatives-192
    []

answers_4 : map (λ row. came_to row.0 row.1 row.2 row.3) rows_4 ≡ map (λ row. row.4) rows_4
unfolding digits
answers_4 = refl

abbrev rows_5 : List (Bool × ℕ × List ℕ × List Step × RunResult)
rows_5 =
    (true, 100, codes "F:= b#-g\nifdef A\nF =\\\n x$(a  b) $(A -g) \nelse\nX ?= ;\nendif", on_line 1 (Apply (ChangeValue (One (Some 1)) (codes "F") (edits.Remove (codes "b")))) ∷ on_line 2 (Apply (RemoveLines (OfAssign None (codes "X")))) ∷ [], ends Done [] (Some (codes "F:= #-g\nifdef A\nF =\\\n x$(a  b) $(A -g) \nelse\nendif"))) ∷  -- alternatives-193
    (false, 100, codes ".RECIPEPREFIX = >\r\nF=\t\\  $(t \\\r\n -g) a b# c\r\nexport F = | a\\\\ # a \\\\", Chain (edit_on 1 (ChangeValue (One (Some 1)) (codes "F") (edits.Add (codes "$(t -g)")))) (edit_on 3 (ChangeValue (One (Some 1)) (codes "F") (edits.Remove (codes "$ b")))) ((edit_on 5 (ChangeValue Every (codes "X") (edits.Append (codes "-g $\\x")))) ∷ (edit_on 6 (ChangeValue (One (Some 2)) (codes "F") (edits.Add (codes "b")))) ∷ []) ∷ Chain (edit_on 7 (AddRecipe None (codes "c") (At 1) (codes "# n"))) (edit_on 8 (ChangeValue Every (codes "F") (edits.Add (codes "$(t -g)")))) [] ∷ on_line 9 (Apply (ChangeValue Every (codes "F") (edits.Add (codes "a")))) ∷ on_line 10 (Apply (ChangeValue (One (Some 1)) (codes "F") (edits.Append (codes "-O2")))) ∷ on_line 11 Begin ∷ [], ends Done [] (Some (codes ".RECIPEPREFIX = >\r\nF=\t\\  $(t \\\r\n -g) a b -O2# c\r\nexport F = | a\\\\ $(t -g) a # a \\\\"))) ∷  -- alternatives-194
    (false, 100, codes "X += a\\\\\noverride F = $#\ta\\  \\\n$(A -g)# a \\\\\n", Chain (edit_on 1 (AddRecipe (Some 4294967295) (codes "d") (At 1) (codes "true"))) (edit_on 2 (ChangeValue Every (codes "X") (edits.Add (codes "$ b")))) ((edit_on 4 (ChangeValue (One None) (codes "X") (edits.Remove (codes "a\\\\")))) ∷ []) ∷ on_line 5 (Apply (ChangeValue (One None) (codes "X") (edits.Set (codes "b")))) ∷ on_line 6 Redo ∷ on_line 7 (Apply (ChangeValue (One (Some 1)) (codes "X") (edits.Remove (codes "b")))) ∷ on_line 8 (Apply (ChangeValue (One None) (codes "X") (edits.Set (codes ":")))) ∷ [], ends (Refused 1) (codes "6: refused 17 NothingToRedo\n") None) ∷  -- alternatives-195
    (true, 100, codes "d c:: ; true\n\tx \\ y\n# n\n\tifdef Q\n\tsay \"q\"\noverride F\\\n=-g $(a\tb)  b \\\r\n x=1", tried_on 1 (ChangeValue (One None) (codes "F") (edits.Remove (codes "$(a\tb)"))) ∷ on_line 2 (Apply (ChangeValue Every (codes "F") (edits.Remove (codes "b")))) ∷ on_line 3 (Apply (RemoveLines (OfRecipe None (codes "d") (ByText (codes "say \"q\""))))) ∷ [], ends Done [] (Some (codes "d c:: ; true\n\tx \\ y\n# n\n\tifdef Q\noverride F\\\n=-g \\\r\n x=1"))) ∷  -- alternatives-196
    (false, 100, codes "a.b := \\\\\\\\ \\\n \\\n -g \\\n    -g\nX!=\na.b\\\n= x=1\\\n\t-O2\ta:b", Chain (edit_on 1 (AddRecipe None (codes "c") (At 1) (codes "true"))) (edit_on 3 (ChangeValue (One (Some 2)) (codes "X") (edits.Add (codes "$(a b)")))) ((edit_on 4 (RemoveLines (OfAssign (Some 0) (codes "F")))) ∷ (edit_on 5 (ChangeValue (One (Some 2)) (codes "X") (edits.Remove (codes "a")))) ∷ []) ∷ tried_on 6 (AddRecipe None (codes "%.c") Last (codes "cÿ")) ∷ tried_on 7 (ChangeValue (One None) (codes "X") (edits.Add (codes "a\\ b"))) ∷ on_line 8 (Apply (ChangeValue Every (codes "X") (edits.Remove (codes "a\\ b")))) ∷ on_line 9 (Apply (ChangeValue Every (codes "X") (edits.Append []))) ∷ on_line 10 (Apply (ChangeValue (One None) (codes "F") (edits.Set []))) ∷ [], ends (Refused 1) (codes "5: refused 4 NoSuch\n") None) ∷  -- alternatives-197
    (false, 100, codes ".RECIPEPREFIX = >\nF:= a\\ \\\nx=1\nF = $(s (b) a) b\tb\n", tried_on 1 (ChangeValue (One (Some 1)) (codes "F") (edits.Remove (codes "b"))) ∷ tried_on 2 (ChangeValue (One None) (codes "F") (edits.Add (codes "-O2"))) ∷ on_line 3 (Apply (ChangeValue (One None) (codes "F") (edits.Remove (codes "$(s (b) a)")))) ∷ on_line 4 (Apply (RemoveLines (OfAssign None (codes "F")))) ∷ on_line 5 (Apply (ChangeValue (One None) (codes "F") (edits.Set (codes "$(A -g) -O2")))) ∷ [], ends (Refused 1) (codes "5: refused 4 NoSuch\n") None) ∷  -- alternatives-199
    (true, 100, codes "c:: a | b\n\ttrue\nendif\nelse\nF = -g a:b -g \\\n \\\n a:b a:b#-g", on_line 1 (Apply (ChangeValue (One None) (codes "F") (edits.Set (codes "x=1")))) ∷ tried_on 2 (ChangeValue (One None) (codes "F") (edits.Append [])) ∷ on_line 3 (Apply (SetRecipe None (codes "c") (ByText (codes "true")) (codes " a"))) ∷ Chain (edit_on 4 (ChangeValue Every (codes "a.b") (edits.Set []))) (edit_on 6 (SetRecipe (Some 2) (codes "c") (ByNumber 1) (codes "t"))) ((edit_on 8 (ChangeValue Every (codes "F") (edits.Set (codes "=")))) ∷ (edit_on 9 (ChangeValue (One None) (codes "F") (edits.Append (codes "-include2 ${g(}")))) ∷ []) ∷ on_line 10 Undo ∷ tried_on 11 (ChangeValue (One None) (codes "a.b") (edits.Append (codes "$\\x $x"))) ∷ tried_on 12 (ChangeValue (One (Some 4294967295)) (codes "F") (edits.Add (codes "x=1"))) ∷ tried_on 13 (AddRecipe None (codes "c") (At 2) (codes "true")) ∷ [], ends (Refused 1) (codes "2: refused 1 BadArgument value\n") (Some (codes "c:: a | b\n\t a\n\ttrue\nendif\nelse\nF = x=1#-g"))) ∷  -- alternatives-201
    (true, 100, codes "\n.RECIPEPREFIX = ", tried_on 1 (ChangeValue (One None) (codes "F") (edits.Add (codes "$ b"))) ∷ on_line 2 (Apply (ChangeValue (One (Some 4294967295)) (codes "o-$(a b)") (edits.Remove (codes "-g")))) ∷ on_line 3 (Apply (ChangeValue (One None) (codes "F") (edits.Remove (codes "=")))) ∷ Chain (edit_on 4 (ChangeValue (One (Some 2)) (codes "endef") (edits.Set (codes "\\#")))) (edit_on 5 (ChangeValue (One None) (codes "X") (edits.Add (codes "a ")))) [] ∷ tried_on 6 (ChangeValue (One (Some 4294967295)) (codes "X") (edits.Add (codes "x$(a  b)"))) ∷ on_line 7 (Apply (AddLine (BeforeVar (Some 0) (codes "define")) (NewRule (codes "c") Double []))) ∷ on_line 8 (Apply (ChangeValue (One None) (codes "F") (edits.Add (codes "a$ b")))) ∷ [], ends (Refused 5) (codes "2: refused 1 BadArgument name\n3: refused 4 NoSuch\n5: refused 1 BadArgument word\n7: refused 4 NoSuch\n8: refused 4 NoSuch\n") (Some (codes "\n.RECIPEPREFIX = "))) ∷  -- alternatives-203
    (false, 100, codes "ifdef A\noverride override\\\n= a $x\\\n\\\n#\nelse\noverride F = -g# \\\n d\nendif\nc: ;\n\t a\noverride = |\\\n-g -O2 ", on_line 1 Begin ∷ on_line 2 (Apply (ChangePrereqs None (codes "c") (AddPrereq false (codes "-include2")))) ∷ on_line 3 (Apply (ChangeValue (One None) (codes "F") (edits.Remove (codes "-g")))) ∷ on_line 4 (Apply (RemoveLines (OfRecipe None (codes "c") (ByText (codes " a"))))) ∷ on_line 5 Redo ∷ on_line 6 (Apply (AddRecipe None (codes "c") (At 1) (codes "a # b"))) ∷ Chain (edit_on 7 (RemoveLines (OfAssign None (codes "endef")))) (edit_on 9 (AddRecipe None (codes "c") (At 1) (codes "true"))) [] ∷ on_line 10 Redo ∷ [], ends (Refused 1) (codes "5: refused 18 GroupOpen\n") None) ∷  -- alternatives-204
    (true, 100, codes "override F\\\n= \nF!=b \\\r\n a\nF += \\\n \\\n a \nexport F += \\\\\n\t$(u \\\nx=1", tried_on 1 (ChangeValue Every (codes "F") (edits.Remove (codes "a"))) ∷ [], ends Done [] (Some (codes "override F\\\n= \nF!=b\nF += \\\n \\\n \nexport F += \\\\\n\t$(u \\\nx=1"))) ∷  -- alternatives-205
    (false, 100, codes "F =\n", on_line 1 (Apply (ChangeValue (One None) (codes "F") (edits.Add (codes "-g")))) ∷ on_line 2 (Apply (ChangeValue (One None) (codes "F") (edits.Remove (codes "-g")))) ∷ Chain (edit_on 3 (ChangeValue (One None) (codes "F") (edits.Remove (codes "x$(a  b)")))) (edit_on 5 (AddLine Bottom (NewRule (codes "foo") Single (codes "-include2 b")))) [] ∷ on_line 6 (Apply (ChangeValue (One None) (codes "F") (edits.Add (codes "$(w a)")))) ∷ on_line 8 (Apply (ChangeValue (One None) (codes "F") (edits.Remove (codes "$(w a)")))) ∷ on_line 9 (Apply (ChangeValue (One None) (codes "F") (edits.Add (codes "x=1")))) ∷ [], ends Done [] (Some (codes "F =x=1\n"))) ∷  -- alternatives-206
    (false, 100, codes "ifdef A\nF\\\n:= \\\n    \nelse\na.b ::= x=1 \\\n \\\n \\##\nendif\n \\\n\nexport a.b += $\\  -g a$  \n", on_line 1 End ∷ on_line 2 (Apply (ChangeValue (One None) (codes "F") (edits.Remove (codes "-O2")))) ∷ [], ends (Refused 1) (codes "1: refused 19 NoGroup\n") None) ∷  -- alternatives-207
    (true, 100, codes "a.b ?= $# -g x=1\nc:\n\t\n\trm -f x\n\tx \\ y\nc: # c\n# n\nelse\n\t>a\nc: a\n\ta # b\n # n\nX\\\n::= a\n", on_line 1 (Apply (AddRecipe (Some 2) (codes "c") Last (codes "x"))) ∷ tried_on 2 (ChangeValue (One None) (codes "F") (edits.Set (codes "$(t -g)"))) ∷ on_line 3 (Apply (ChangeValue Every (codes "a.b") (edits.Add (codes "$(A -g)")))) ∷ on_line 4 Undo ∷ on_line 5 (Apply (SetRecipe (Some 2) (codes "c") (ByText (codes "say \"q\"")) (codes "say \"q\""))) ∷ on_line 6 (Apply (ChangeValue (One None) (codes "F") (edits.Append (codes "\\#")))) ∷ on_line 7 (Apply (ChangePrereqs None (codes "$(a b)") (RemovePrereq (codes "c")))) ∷ tried_on 8 (RemoveLines (OfAssign (Some 1) (codes "F"))) ∷ on_line 9 (Apply (ChangeValue Every (codes "X") (edits.Remove (codes "a")))) ∷ [], ends (Refused 3) (codes "5: refused 6 Absent\n6: refused 4 NoSuch\n7: refused 4 NoSuch\n") (Some (codes "a.b ?= $# -g x=1\nc:\n\t\n\trm -f x\n\tx \\ y\nc: # c\n\tx\n# n\nelse\n\t>a\nc: a\n\ta # b\n # n\nX\\\n::= \n"))) ∷  -- alternatives-208
    (true, 100, codes "ifdef A\nF:= a |\\\n $(t \\\n -g) \nendif\nc:\n\trm -rf x\nc: ; true\n\t\nF\\\n!= \nifdef A\nexport X = | \\\r\n a a\nendif\n", tried_on 1 (ChangeValue Every (codes "F") (edits.Set (codes "a$ b a"))) ∷ on_line 2 (Apply (ChangeValue Every (codes "F") (edits.Set []))) ∷ on_line 3 (Apply (ChangeValue (One (Some 1)) (codes "F") (edits.Set (codes "; $(a b)")))) ∷ on_line 4 (Apply (ChangePrereqs (Some 1) (codes "c") (AddPrereq true (codes "t")))) ∷ on_line 5 (Apply (ChangeValue (One (Some 2)) (codes "F") (edits.Add (codes "x=1")))) ∷ Chain (edit_on 6 (RemoveLines (OfRecipe (Some 2) (codes "c") (ByText (codes " a"))))) (edit_on 8 (ChangeValue Every (codes "F") (edits.Remove (codes "$(a b)")))) [] ∷ Chain (edit_on 9 (AddRecipe (Some 2) (codes "c") (At 1) (codes "true"))) (edit_on 11 (ChangeValue (One None) (codes "X") (edits.Set (codes "a")))) ((edit_on 12 (ChangeValue Every (codes "X") (edits.Append (codes "${c}")))) ∷ []) ∷ on_line 13 (Apply (SetRecipe (Some 1) (codes "c") (ByText (codes "rm -rf x")) (codes "true"))) ∷ on_line 14 (Apply (ChangeValue Every (codes "F") (edits.Set (codes "$(s (b) a)")))) ∷ on_line 15 (Apply (ChangeValue (One (Some 2)) (codes "F") (edits.Remove (codes "$(s (b) a)")))) ∷ [], ends Done [] (Some (codes "ifdef A\nF:= $(s (b) a)\nendif\nc: | t\n\ttrue\nc: ; true\n\ttrue\n\t\nF\\\n!= \nifdef A\nexport X = | \\\r\n a a\nendif\n"))) ∷  -- alternatives-209
    (false, 100, codes "override\\\n= a:b\nifdef A\nF\\\n:= =\nendif\n", on_line 1 (Apply (ChangeValue (One (Some 1)) (codes "F") (edits.Set []))) ∷ on_line 2 (Apply (RemoveLines (OfAssign None (codes "F")))) ∷ on_line 3 (Apply (ChangeValue (One None) (codes "override") (edits.Remove (codes "a:b")))) ∷ Chain (edit_on 4 (RemoveLines (OfAssign (Some 4294967295) (codes "X")))) (edit_on 5 (ChangeValue (One None) (codes "override") (edits.Remove (codes "a$ b")))) ((edit_on 6 (ChangeValue (One None) (codes "override") (edits.Remove (codes "-g")))) ∷ (edit_on 8 (ChangeValue (One None) (codes "override") (edits.Add (codes "$(s (b) a)")))) ∷ []) ∷ Chain (edit_on 9 (RemoveLines (OfAssign None (codes "a.b")))) (edit_on 10 (RemoveLines (OfAssign None (codes "override")))) [] ∷ on_line 11 Undo ∷ on_line 12 (Apply (ChangeValue (One None) (codes "override") (edits.Add (codes "a")))) ∷ Chain (edit_on 13 (ChangeValue (One None) (codes "F") (edits.Remove (codes "$(w a)")))) (edit_on 15 (ChangeValue (One None) (codes "override") (edits.Remove (codes "a")))) ((edit_on 16 (ChangeValue (One None) (codes "override") (edits.Remove (codes "a")))) ∷ (edit_on 18 (ChangeValue (One None) (codes "override") (edits.Set (codes "$\\x")))) ∷ []) ∷ [], ends Done [] (Some (codes "override\\\n= \nifdef A\nendif\n"))) ∷  -- alternatives-210
    (true, 100, codes "F = $$\\\n| b\n", on_line 1 (Apply (AddLine (BeforeVar None (codes "F")) (NewRule (codes "a") Double (codes "foo")))) ∷ on_line 2 Undo ∷ tried_on 3 (ChangeValue (One None) (codes "F") (edits.Remove (codes "b"))) ∷ on_line 4 (Apply (ChangeValue Every (codes "F") (edits.Remove (codes "$$")))) ∷ [], ends Done [] (Some (codes "F = |\n"))) ∷  -- alternatives-211
    (false, 100, codes "F = b\nc:: ; true\n \n>b\n", tried_on 1 (SetRecipe (Some 2) (codes "c") (ByNumber 1) (codes "\tb")) ∷ Chain (edit_on 2 (ChangePrereqs (Some 4294967295) (codes "c") (AddPrereq true (codes "foo")))) (edit_on 4 (SetRecipe None (codes "c") (ByText (codes "a")) (codes "# n"))) [] ∷ on_line 5 (Apply (ChangeValue Every (codes "F") (edits.Remove (codes "x=1")))) ∷ [], ends (Refused 1) (codes "5: refused 6 Absent\n") None) ∷  -- alternatives-212
    (true, 100, codes "c: # c\n\ta # b\n\tifdef Q\nX = x=1 \\\r\n x$(a  b)# \\\n d\noverride X ::= $x#-g\n", on_line 1 (Apply (RemoveLines (OfRecipe None (codes "c") (ByText (codes "a # b"))))) ∷ on_line 2 (Apply (ChangeValue Every (codes "X") (edits.Remove (codes "x$(a  b)")))) ∷ Chain (edit_on 3 (ChangeValue (One (Some 1)) (codes "X") (edits.Add (codes "x=1")))) (edit_on 4 (ChangeValue Every (codes "X") (edits.Append (codes "$(t -g)")))) [] ∷ [], ends Done [] (Some (codes "c: # c\n\tifdef Q\nX = x=1# \\\n d\noverride X ::= $x#-g\n"))) ∷  -- alternatives-213
    (true, 100, codes "F ?= $(s (b) a) a:b \n", tried_on 1 (ChangeValue (One None) (codes "X") (edits.Set (codes "$(w a)"))) ∷ on_line 2 (Apply (ChangeValue (One None) (codes "F") (edits.Remove (codes "a:b")))) ∷ on_line 3 (Apply (ChangeValue Every (codes "F") (edits.Append (codes "$(a b)")))) ∷ tried_on 4 (SetRecipe (Some 1) (codes "c") (ByText (codes "# n")) (codes "\ttrue")) ∷ on_line 5 (Apply (ChangeValue (One None) (codes "F") (edits.Remove (codes "$(a b)")))) ∷ [], ends Done [] (Some (codes "F ?= $(s (b) a) \n"))) ∷  -- alternatives-214
    (false, 100, codes "o-$(a b)+= \t# \r\nF += $# -O2\\\n\t-O2\n", on_line 1 (Apply (SetRecipe (Some 4294967295) (codes "c") (ByText (codes "# n")) (codes "true"))) ∷ on_line 2 (Apply (ChangeValue (One None) (codes "o-$(a b)") (edits.Remove (codes "b")))) ∷ on_line 3 (Apply (AddLine (BeforeVar None (codes "F")) (NewRule [] Single (codes "%.o")))) ∷ Chain (edit_on 4 (ChangeValue Every (codes "F") (edits.Add (codes "-O2")))) (edit_on 6 (ChangeValue (One None) (codes "F") (edits.Add (codes "-O2")))) [] ∷ [], ends (Refused 1) (codes "1: refused 4 NoSuch\n") None) ∷  -- alternatives-215
    (true, 100, codes ".RECIPEPREFIX = >\nF\\\n= b x=1 \nX!= b  ; \\\n=# a \\\\\nd: a | b\n>say \"q\"\n>\n\n", Chain (edit_on 1 (ChangeValue (One (Some 0)) (codes "F") (edits.Add (codes "x=1")))) (edit_on 2 (RenameTarget (codes "b") (codes "-include2"))) ((edit_on 3 (AddLine (BeforeRule None (codes "d")) (NewRule (codes "a&b") Double []))) ∷ (edit_on 5 (ChangeValue (One None) (codes "X") (edits.Set (codes "-include2")))) ∷ []) ∷ on_line 6 Undo ∷ Chain (edit_on 7 (ChangeValue (One (Some 0)) (codes "F") (edits.Remove (codes "-g")))) (edit_on 8 (AddRecipe None (codes "d") (At 2) (codes "t"))) [] ∷ on_line 9 (Apply (RemoveLines (OfAssign None (codes "X")))) ∷ [], ends Done [] (Some (codes ".RECIPEPREFIX = >\nF\\\n= b x=1 \nd: a | b\n>say \"q\"\n>t\n>\n\n"))) ∷  -- alternatives-216
    (true, 100, codes "F = x=1\\\n\\\n\\\\\\\\ ; x$(a  b)\\\n= \n", tried_on 1 (SetRecipe (Some 2) (codes "c") (ByText (codes ">a")) (codes "# n")) ∷ on_line 2 (Apply (ChangeValue Every (codes "F") (edits.Set (codes "a\\ b")))) ∷ Chain (edit_on 4 (RemoveLines (OfAssign (Some 0) (codes "X")))) (edit_on 5 (ChangeValue Every (codes "F") (edits.Set []))) [] ∷ on_line 6 Undo ∷ on_line 7 (Apply (RemoveLines (OfAssign None (codes "F")))) ∷ on_line 8 (Apply (AddLine Bottom (NewRule (codes "$(a b)") Double []))) ∷ on_line 9 (Apply (RemoveLines (OfRule None (codes "$(a b)")))) ∷ Chain (edit_on 10 (ChangeValue Every (codes "F") (edits.Add (codes "$\\x")))) (edit_on 11 (AddLine Bottom (NewRule (codes "a&b $(s\\)") Single (codes "$(q:;=|) ${g(}")))) [] ∷ Chain (edit_on 12 (RemoveLines (OfRecipe None (codes "a&b") (ByText (codes "rm -f x"))))) (edit_on 14 (SetRecipe None (codes "a&b") (ByText (codes "true")) (codes "# n"))) ((edit_on 15 (AddRecipe None (codes "$(s\\)") (At 1) (codes "b"))) ∷ []) ∷ [], ends Done [] (Some (codes "a&b $(s\\): $(q:;=|) ${g(}\n"))) ∷  -- alternatives-217
    (false, 100, codes ".RECIPEPREFIX = >\r\nF?= \\\r\n    a ;\r\n", on_line 1 (Apply (ChangeValue (One None) (codes "F") (edits.Remove (codes ";")))) ∷ Chain (edit_on 2 (ChangeValue (One (Some 2)) (codes "F") (edits.Remove (codes "a")))) (edit_on 4 (RemoveLines (OfAssign None (codes "X")))) ((edit_on 6 (ChangeValue (One None) (codes "F") (edits.Remove (codes "a")))) ∷ []) ∷ Chain (edit_on 7 (ChangeValue (One None) (codes "F") (edits.Remove (codes "-g")))) (edit_on 8 (ChangeValue (One None) (codes "override") (edits.Append (codes "$(A -g)")))) ((edit_on 10 (ChangeValue (One None) (codes "F") (edits.Add (codes "=")))) ∷ []) ∷ tried_on 11 (ChangeValue (One None) (codes "F") (edits.Remove (codes "-g"))) ∷ on_line 12 Undo ∷ [], ends Done [] (Some (codes ".RECIPEPREFIX = >\r\nF?= \\\r\n    a\r\n"))) ∷  -- alternatives-218
    (true, 100, codes "d:: ;\n\ta # b\n\ttrue\n\ttrue", tried_on 1 (SetRecipe None (codes "d") (ByText (codes "true")) (codes "a")) ∷ tried_on 2 (ChangeValue (One (Some 1)) (codes "F") (edits.Set (codes "2"))) ∷ Chain (edit_on 3 (ChangeValue (One None) (codes "X") (edits.Remove (codes "-g")))) (edit_on 5 (AddRecipe None (codes "d") (At 2) (codes "\ttrue"))) [] ∷ Chain (edit_on 6 (SetRecipe (Some 1) (codes "d") (ByText (codes "say \"q\"")) (codes "true"))) (edit_on 7 (AddRecipe (Some 2) (codes "d") (At 1) [])) ((edit_on 9 (RemoveLines (OfRecipe (Some 0) (codes "d") (ByText (codes "rm -rf x"))))) ∷ (edit_on 11 (SetRecipe None (codes "d") (ByText (codes "\ttrue")) (codes "b"))) ∷ []) ∷ [], ends (Refused 1) (codes "1: refused 5 Ambiguous 2\n") (Some (codes "d:: ;\n\ta # b\n\t\ttrue\n\ttrue\n\ttrue"))) ∷  -- alternatives-219
    (false, 100, codes "inclendefe: a\n>a\\ b\n>rm -rf x\n>a # b\n>x \\ y", on_line 1 (Apply (RemoveLines (OfRecipe None (codes "inclendefe") (ByText (codes ">a"))))) ∷ on_line 2 (Apply (AddRecipe None (codes "d") (At 1) (codes "true"))) ∷ Chain (edit_on 3 (SetRecipe None (codes "inclendefe") (ByText (codes "\ttrue")) (codes "\ttrue"))) (edit_on 5 (ChangeValue (One None) (codes "F") (edits.Remove (codes "-O2")))) ((edit_on 7 (RemoveLines (OfRecipe None (codes "inclendefe") (ByText (codes "ifdef Q"))))) ∷ []) ∷ Chain (edit_on 8 (AddRecipe (Some 2) (codes "inclendefe") (At 1) (codes "a # b"))) (edit_on 9 (SetRecipe None (codes "inclendefe") (ByText (codes "rm -rf x")) (codes "rm -rf x"))) ((edit_on 11 (RemoveLines (OfRecipe None (codes "inclendefe") (ByText (codes "ifdef Q"))))) ∷ (edit_on 12 (RemoveLines (OfRule (Some 2) (codes "inclendefe")))) ∷ []) ∷ on_line 13 (Apply (SetRecipe None (codes "inclendefe") (ByText (codes "a # b")) (codes "rm -f x"))) ∷ on_line 14 (Apply (SetRecipe None (codes "inclendefe") (ByText (codes "rm -f x")) [])) ∷ on_line 15 End ∷ [], ends (Refused 1) (codes "1: refused 6 Absent\n") None) ∷  -- alternatives-220
    (false, 100, codes "F\\\n=;# a \\\\", tried_on 1 (ChangeValue (One None) (codes "F") (edits.Remove (codes ";"))) ∷ on_line 2 (Apply (ChangeValue Every (codes "F") (edits.Append (codes "-g b")))) ∷ Chain (edit_on 3 (ChangeValue Every (codes "F") (edits.Add (codes "-g")))) (edit_on 5 (ChangeValue (One None) (codes "F") (edits.Add (codes "-g")))) ((edit_on 6 (ChangeValue (One (Some 4294967295)) (codes "F") (edits.Set (codes ":")))) ∷ (edit_on 7 (ChangeValue Every (codes "F") (edits.Add (codes "a")))) ∷ []) ∷ tried_on 8 (ChangeValue (One None) (codes "F") (edits.Append (codes "1"))) ∷ on_line 9 (Apply (ChangeValue (One None) (codes "F") (edits.Remove (codes "\\#")))) ∷ on_line 10 (Apply (ChangeValue (One None) (codes "F") (edits.Add (codes "b")))) ∷ on_line 11 (Apply (ChangeValue Every (codes "F") (edits.Append (codes "; a:b")))) ∷ on_line 12 Undo ∷ [], ends (Refused 1) (codes "9: refused 6 Absent\n") None) ∷  -- alternatives-222
    (true, 100, codes "ifdef A\nF:= =  -g \\\n    \nendif\noverride a.b :=a$\\ a \\\n    a # c\nd: a | b\n\tx \\ y\n\tx \\ y\n\t\ttrue\nX = # c\n\t# x ; y : z = 1", on_line 1 (Apply (ChangeValue (One None) (codes "F") (edits.Remove (codes "a$ b")))) ∷ on_line 2 Undo ∷ tried_on 3 (RemoveLines (OfAssign (Some 2) (codes "F"))) ∷ on_line 4 (Apply (ChangeValue (One None) (codes "X") (edits.Remove (codes ";")))) ∷ Chain (edit_on 5 (ChangeValue (One (Some 4294967295)) (codes "X") (edits.Remove (codes "a$ b")))) (edit_on 7 (AddRecipe None (codes "x.o") (At 1) (codes "true"))) [] ∷ on_line 8 (Apply (SetRecipe None (codes "d") (ByText (codes "x \\ y")) (codes "rm -rf x"))) ∷ on_line 9 (Apply (ChangeValue (One None) (codes "X$ ") (edits.Remove (codes "a")))) ∷ tried_on 10 (RemoveLines (OfRule None (codes "d"))) ∷ [], ends (Refused 6) (codes "1: refused 6 Absent\n2: refused 16 NothingToUndo\n4: refused 6 Absent\n7: refused 4 NoSuch\n8: refused 5 Ambiguous 2\n9: refused 1 BadArgument name\n") (Some (codes "ifdef A\nF:= =  -g \\\n    \nendif\noverride a.b :=a$\\ a \\\n    a # c\nX = # c\n\t# x ; y : z = 1"))) ∷  -- alternatives-224
    (false, 100, codes "ifdef A\r\nF\\\r\n!= = # a \\\\\r\nelse\r\noverride F != a$\\ \\\r\n    -g $(t \\\r\n -g)\\\r\n\\\r\nx=1\r\nendif\r\ninclude: ; true\r\n # n\r\n>>a\r\n>>a\r\n>ifdef Q\r\n", tried_on 1 (ChangeValue (One (Some 0)) (codes "override") (edits.Set (codes "-O2"))) ∷ on_line 2 Cancel ∷ tried_on 3 (RemoveLines (OfRecipe None (codes "include") (ByText (codes "b")))) ∷ Chain (edit_on 4 (ChangeValue Every (codes "F") (edits.Append (codes "$(t -g) x$(a  b)")))) (edit_on 5 (AddRecipe None (codes "include") (At 1) (codes "true"))) [] ∷ on_line 6 (Apply (AddRecipe None (codes "include") (At 1) (codes "a # b"))) ∷ Chain (edit_on 7 (RemoveLines (OfAssign None (codes "a.b")))) (edit_on 9 (ChangeValue (One (Some 2)) (codes "F") (edits.Add (codes "x$(a  b)")))) ((edit_on 10 (RenameTarget (codes "include") (codes "x.o"))) ∷ (edit_on 12 (RemoveLines (OfRecipe None (codes "include") (ByText (codes "\ttrue"))))) ∷ []) ∷ Chain (edit_on 13 (ChangeValue (One (Some 4294967295)) (codes "F") (edits.Add (codes "=")))) (edit_on 14 (AddRecipe None (codes "include") (At 1) (codes "\ttrue"))) [] ∷ on_line 15 (Apply (AddRecipe (Some 2) (codes "include") (At 1) (codes ">a"))) ∷ [], ends (Refused 1) (codes "2: refused 19 NoGroup\n") None) ∷  -- alternatives-225
    (true, 100, codes "ifdef A\nF != \\\n \\\n x=1 \nelse\nF= -g\nendif\noverride =a = b\nc: a\n\ttrue\n\ta # b\nd: ; true\n\ttrue\n\ttrue \\\r\n\ttrue\n\trm -rf x\n", Chain (edit_on 1 (AddRecipe (Some 0) (codes "d") (At 1) (codes "# n"))) (edit_on 3 (ChangeValue Every (codes "F") (edits.Remove (codes "-g")))) [] ∷ on_line 4 (Apply (ChangeValue Every (codes "F") (edits.Remove (codes "-g")))) ∷ Chain (edit_on 5 (ChangePrereqs None (codes "d") (RemovePrereq (codes "${c}")))) (edit_on 7 (RemoveLines (OfAssign (Some 2) (codes "F")))) [] ∷ on_line 8 (Apply (ChangeValue Every (codes "override") (edits.Remove (codes "b")))) ∷ [], ends (Refused 1) (codes "4: refused 6 Absent\n") (Some (codes "ifdef A\nF != \\\n \\\n x=1 \nelse\nF= \nendif\noverride =a =\nc: a\n\ttrue\n\ta # b\nd: ; true\n\ttrue\n\ttrue \\\r\n\ttrue\n\trm -rf x\n"))) ∷  -- alternatives-226
    (false, 100, codes "c: a | b\na.b\\\n= \\\r\n -O2# a \\\\\nc&: ; true\n\tifdef Q\n\ttrue\\", on_line 1 (Apply (ChangeValue (One None) (codes "a.b") (edits.Remove (codes "-O2")))) ∷ Chain (edit_on 2 (ChangeValue (One None) (codes "a.b") (edits.Remove (codes "b")))) (edit_on 3 (RemoveLines (OfRecipe (Some 4294967295) (codes "c") (ByText (codes "# n"))))) ((edit_on 5 (AddRecipe (Some 1) (codes "c") Last (codes "x"))) ∷ []) ∷ tried_on 6 (ChangeValue (One None) (codes "a.b") (edits.Add (codes "b"))) ∷ on_line 7 (Apply (ChangeValue (One (Some 1)) (codes "a.b") (edits.Add (codes "x=1")))) ∷ on_line 8 (Apply (ChangeValue (One None) (codes "a.b") (edits.Remove (codes "x=1")))) ∷ on_line 9 (Apply (ChangeValue Every (codes "a.b") (edits.Set (codes "-O2")))) ∷ on_line 10 (Apply (ChangeValue (One None) (codes "a.b") (edits.Add (codes "\\#")))) ∷ [], ends Done [] (Some (codes "c: a | b\na.b\\\n= \\\r\n -O2 \\## a \\\\\nc&: ; true\n\tifdef Q\n\ttrue\\"))) ∷  -- alternatives-227
    (true, 100, codes "c: ;\n>t\n # \\\nc&: # c\n", on_line 1 (Apply (RemoveLines (OfRecipe None (codes "c") (ByText (codes "true"))))) ∷ Chain (edit_on 2 (ChangeValue Every (codes "override") (edits.Remove (codes "$(a b)")))) (edit_on 4 (ChangeValue Every (codes "F") (edits.Remove (codes "b")))) ((edit_on 6 (SetRecipe None (codes "c") (ByText (codes "rm -rf x")) [])) ∷ (edit_on 8 (AddRecipe None (codes "c") (At 1) (codes ">a"))) ∷ []) ∷ on_line 9 (Apply (AddRecipe None (codes "c") (At 1) (codes "true"))) ∷ tried_on 10 (ChangeValue Every (codes "F") (edits.Remove (codes "-g"))) ∷ on_line 11 Begin ∷ Chain (edit_on 12 (RemoveLines (OfRecipe None (codes "c") (ByText (codes "true"))))) (edit_on 14 (RemoveLines (OfAssign (Some 1) (codes "F")))) ((edit_on 15 (ChangeValue (One None) (codes "F") (edits.Set (codes "${c} \\#")))) ∷ []) ∷ on_line 16 (Apply (SetRecipe None (codes "c") (ByText (codes "a")) (codes " a"))) ∷ on_line 17 (Apply (SetRecipe None (codes "c") (ByText (codes "a")) (codes "a"))) ∷ tried_on 18 (RemoveLines (OfRecipe None (codes "c") (ByText (codes "t")))) ∷ [], ends (Refused 3) (codes "1: refused 6 Absent\n16: refused 6 Absent\n17: refused 6 Absent\n") (Some (codes "c: ;\n>t\n # \\\nc&: # c\n"))) ∷  -- alternatives-228
    (false, 100, codes "ifdef A\r\na.b= \\\\ ${c} \r\nendif\r\nF = \r\n", Chain (edit_on 1 (ChangeValue (One None) (codes "F") (edits.Append []))) (edit_on 3 (ChangeValue (One None) (codes "override") (edits.Set []))) ((edit_on 5 (RemoveLines (OfAssign None (codes "a.b")))) ∷ []) ∷ tried_on 6 (RemoveLines (OfAssign None (codes "F"))) ∷ Chain (edit_on 7 (ChangeValue (One None) (codes "F") (edits.Append (codes "$(A -g)")))) (edit_on 9 (ChangeValue (One None) (codes "a.b") (edits.Remove (codes "${c}")))) [] ∷ on_line 10 (Apply (ChangeValue (One None) (codes "a.b") (edits.Remove (codes "\\\\")))) ∷ Chain (edit_on 11 (RemoveLines (OfAssign None (codes "F")))) (edit_on 12 (ChangeValue (One None) (codes "F") (edits.Set []))) ((edit_on 14 (ChangeValue (One (Some 2)) (codes "a.b") (edits.Add (codes "${c}")))) ∷ []) ∷ [], ends (Refused 1) (codes "1: refused 1 BadArgument value\n") None) ∷  -- alternatives-229
    (true, 100, codes " \\\n\tdefine  =  #\nc c: # c\n\n\nc:", on_line 1 (Apply (SetRecipe (Some 1) (codes "c") (ByText (codes "t")) (codes "t"))) ∷ on_line 2 (Apply (ChangePrereqs (Some 1) (codes "c") (AddPrereq false (codes "a&b")))) ∷ tried_on 3 (ChangeValue (One (Some 0)) (codes "a.b") (edits.Set (codes "$ a"))) ∷ on_line 4 (Apply (ChangeValue (One None) (codes "define") (edits.Add (codes "a\\ b")))) ∷ tried_on 5 (SetRecipe (Some 2) (codes "c") (ByText (codes "b")) (codes "ifdef Q")) ∷ on_line 6 (Apply (ChangeValue (One None) (codes "define") (edits.Remove (codes "a\\ b")))) ∷ on_line 7 (Apply (ChangeValue (One (Some 0)) (codes "define") (edits.Remove (codes "x$(a  b)")))) ∷ on_line 8 Undo ∷ [], ends (Refused 2) (codes "1: refused 6 Absent\n7: refused 4 NoSuch\n") (Some (codes " \\\n\tdefine  =  a\\ b#\nc c: a&b # c\n\n\nc:"))) ∷  -- alternatives-230
    (true, 100, codes "F\\\n+= $(A -g) \\\n| \na.b ?= b b# c\n", on_line 1 (Apply (ChangeValue (One None) (codes "F") (edits.Add (codes "a")))) ∷ on_line 3 (Apply (ChangeValue (One None) (codes "a.b") (edits.Remove (codes "b")))) ∷ on_line 4 (Apply (AddLine Bottom (NewAssign (codes "CC") Shell []))) ∷ on_line 5 (Apply (ChangeValue Every (codes "a.b") (edits.Set (codes "a")))) ∷ tried_on 6 (ChangeValue (One None) (codes "F") (edits.Append (codes "a"))) ∷ on_line 7 (Apply (ChangeValue (One None) (codes "a.b") (edits.Remove (codes "a")))) ∷ [], ends Done [] (Some (codes "F\\\n+= $(A -g) \\\n| a a \na.b ?= # c\nCC !=\n"))) ∷  -- alternatives-232
    (false, 100, codes "F += \\\r\n \\\r\n #\r\nX = -g $  -g#\r\nx.o \\\r\n \\\r\n $(a b) \\\r\n: a&b\\\r\n\t$(s\\) $(p #) | -include2", on_line 1 (Apply (RemoveLines (OfAssign None (codes "F")))) ∷ on_line 2 (Apply (ChangeValue (One None) (codes "a.b") (edits.Append []))) ∷ on_line 3 Begin ∷ tried_on 4 (AddLine Bottom (NewAssign (codes "Y") Recursive (codes "$(f {) |"))) ∷ on_line 5 (Apply (ChangeValue (One None) (codes "Y") (edits.Add (codes "\\\\a")))) ∷ on_line 6 (Apply (ChangeValue (One None) (codes "Y") (edits.Remove (codes "|")))) ∷ on_line 7 (Apply (AddRecipe None (codes "x.o") Last (codes " a"))) ∷ on_line 8 (Apply (ChangeValue (One None) (codes "X") (edits.Add (codes "-O2")))) ∷ [], ends (Refused 1) (codes "2: refused 1 BadArgument value\n") None) ∷  -- alternatives-233
    (true, 100, codes "c c&: # c\r\n\trm -rf x\n\t a", tried_on 1 (ChangeValue (One None) (codes "F") (edits.Append (codes "b"))) ∷ tried_on 2 (ChangeValue (One None) (codes "override") (edits.Set [])) ∷ on_line 3 (Apply (SetRecipe None (codes "c") (ByText (codes "rm -rf x")) (codes "\ttrue"))) ∷ tried_on 4 (ChangeValue (One (Some 1)) (codes "F") (edits.Set (codes "2"))) ∷ tried_on 5 (AddLine Bottom (NewAssign (codes "define") Recursive (codes "b"))) ∷ on_line 6 (Apply (ChangeValue (One None) (codes "define") (edits.Remove (codes "b")))) ∷ on_line 7 (Apply (AddRecipe None (codes "c") Last (codes "e f \\ g"))) ∷ [], ends Done [] (Some (codes "c c&: # c\r\n\t\ttrue\n\t a\r\n\te f \\ g\r\ndefine = \r\n"))) ∷  -- alternatives-234
    (false, 100, codes "%.c: : \t\n", on_line 1 (Apply (ChangeValue (One (Some 0)) (codes "F") (edits.Add (codes "-g")))) ∷ on_line 2 (Apply (AddLine Bottom (NewRule (codes "%.c a&b") Double (codes "b $(q:;=|)")))) ∷ on_line 3 (Apply (AddRecipe None (codes "a&b") (At 1) (codes "a"))) ∷ on_line 4 (Apply (RemoveLines (OfRecipe None (codes "a&b") (ByNumber 1)))) ∷ tried_on 5 (RemoveLines (OfRecipe None (codes "%.c") (ByText (codes "x \\ y")))) ∷ tried_on 6 (ChangeValue Every (codes "F") (edits.Add (codes "-g"))) ∷ tried_on 7 (AddRecipe None (codes "a&b") (At 1) (codes "true")) ∷ on_line 8 (Apply (ChangePrereqs None (codes "a&b") (AddPrereq false (codes "${c}")))) ∷ tried_on 9 (AddLine Bottom (NewAssign (codes "t1") Immediate (codes "$(s\\) a"))) ∷ [], ends (Refused 1) (codes "1: refused 4 NoSuch\n") None) ∷  -- alternatives-235
    (true, 100, codes "ifdef A\nF?= \\\nx$(a  b) a\\\n\t$  \nendif\n$$ &:  ; foo \\\n# \r\noverride F\\\n= ; b# a \\\\", on_line 1 (Apply (RemoveLines (OfAssign (Some 2) (codes "F")))) ∷ Chain (edit_on 2 (AddRecipe None (codes "$$") (At 2) (codes "true"))) (edit_on 4 (ChangeValue Every (codes "F") (edits.Set (codes "${c} x$(a  b)")))) [] ∷ [], ends Done [] (Some (codes "ifdef A\nF?= \\\nx$(a  b) a\\\n\t$  \nendif\n$$ &:  ; foo \\\n# \r\n"))) ∷  -- alternatives-236
    (true, 100, codes "F:= a\\\\ \\\r\n -g\nF != a\\\n a $(a\tb) \\\n-g b# \\\n d\nd: ; true\n\ta\\\\\n\trm -f x\n\trm -f x\na.b :=\\# $ \n", on_line 1 (Apply (ChangeValue Every (codes "+") (edits.Remove (codes "x=1")))) ∷ on_line 2 (Apply (SetRecipe (Some 0) (codes "d") (ByText (codes " a")) (codes "x \\ y"))) ∷ tried_on 3 (ChangeValue (One (Some 0)) (codes "F") (edits.Remove (codes "-g"))) ∷ Chain (edit_on 4 (ChangeValue (One (Some 4294967295)) (codes "a.b") (edits.Remove (codes "\\#")))) (edit_on 6 (RemoveLines (OfAssign (Some 1) (codes "F")))) [] ∷ on_line 7 (Apply (AddRecipe None (codes "d") (At 2) (codes "say \"q\""))) ∷ [], ends (Refused 2) (codes "1: refused 1 BadArgument name\n2: refused 4 NoSuch\n") (Some (codes "F:= a\\\\ \\\r\n -g\nd: ; true\n\ta\\\\\n\tsay \"q\"\r\n\trm -f x\n\trm -f x\na.b :=\\# $ \n"))) ∷  -- alternatives-238
    (true, 100, codes "F\\\n:= $$\\\nx=1 b # c\nF\\\n= b \\\r\n =#-g\n", Chain (edit_on 1 (ChangeValue (One (Some 1)) (codes "F") (edits.Remove (codes "|")))) (edit_on 3 (ChangeValue Every (codes "F") (edits.Set (codes "-g $(a b)")))) [] ∷ on_line 4 (Apply (ChangeValue (One (Some 0)) (codes "F") (edits.Add (codes "a\\")))) ∷ on_line 5 Undo ∷ on_line 6 (Apply (AddLine (BeforeVar (Some 2) (codes "F")) (NewAssign (codes "e") Recursive []))) ∷ Chain (edit_on 7 (ChangeValue Every (codes "F") (edits.Remove (codes "-O2")))) (edit_on 8 (RemoveLines (OfAssign (Some 1) (codes "F")))) ((edit_on 9 (ChangeValue Every (codes "e") (edits.Add (codes "-g")))) ∷ []) ∷ on_line 10 (Apply (ChangeValue (One None) (codes "e") (edits.Add (codes "$(a b)")))) ∷ on_line 11 (Apply (ChangeValue (One None) (codes "F") (edits.Remove (codes "$$")))) ∷ tried_on 12 (RemoveLines (OfAssign None (codes "CC"))) ∷ [], ends (Refused 3) (codes "4: refused 1 BadArgument word\n5: refused 16 NothingToUndo\n11: refused 5 Ambiguous 2\n") (Some (codes "F\\\n:= $$\\\nx=1 b # c\ne =$(a b)\nF\\\n= b \\\r\n =#-g\n"))) ∷  -- alternatives-239
    (false, 100, codes "ifdef A\r\nF += -g \\\r\n \\\r\n -O2 \\\r\n    \r\nelse\r\nF\\\r\n= b a$  \r\nendif", on_line 1 (Apply (ChangeValue Every (codes "F") (edits.Append (codes "x=1")))) ∷ Chain (edit_on 2 (AddLine Bottom (NewAssign (codes ">q") Simple (codes "2 3")))) (edit_on 3 (AddRecipe None (codes "a&b") Last (codes "y # z"))) ((edit_on 4 (RemoveLines (OfAssign (Some 2) (codes "F")))) ∷ (edit_on 5 (ChangeValue (One (Some 2)) (codes "F") (edits.Add (codes "|")))) ∷ []) ∷ on_line 6 (Apply (ChangeValue Every (codes "X") (edits.Remove (codes "a\0")))) ∷ tried_on 7 (SetRecipe None (codes "d") (ByText (codes "\ttrue")) (codes "rm -rf x")) ∷ Chain (edit_on 8 (AddRecipe (Some 2) (codes "c") (At 1) (codes "true"))) (edit_on 10 (ChangeValue Every (codes "F") (edits.Add (codes "x=1")))) ((edit_on 12 (SetRecipe (Some 2) (codes "c") (ByText (codes "say \"q\"")) (codes "rm -f x"))) ∷ []) ∷ on_line 13 (Apply (ChangeValue (One (Some 2)) (codes "F") (edits.Add (codes "$\\x")))) ∷ tried_on 14 (ChangeValue Every (codes "F") (edits.Add (codes "-g"))) ∷ on_line 15 (Apply (ChangeValue (One (Some 1)) (codes "F") (edits.Remove (codes "-O2")))) ∷ tried_on 16 (ChangeValue Every (codes "F") (edits.Remove (codes "-g"))) ∷ tried_on 17 (RemoveLines (OfAssign (Some 1) (codes "F"))) ∷ [], ends (Refused 1) (codes "2: refused 1 BadArgument name\n") None) ∷  -- alternatives-240
    (false, 100, codes "a.b != \\\n# \\\n d\noverride= b a $ # a \\\\\nifdef A\nF = \nelse\nF =b -g# \\\n d\nendif\n #\\\\\\\n\nendef x\n", on_line 1 (Apply (ChangeValue (One None) (codes "a.b") (edits.Remove (codes "$(t -g)")))) ∷ Chain (edit_on 2 (ChangeValue (One (Some 2)) (codes "override") (edits.Remove (codes "b")))) (edit_on 4 (ChangeValue Every (codes "a.b") (edits.Add (codes "x=1")))) [] ∷ Chain (edit_on 5 (ChangeValue (One (Some 2)) (codes "F") (edits.Set (codes "x$(a  b)")))) (edit_on 7 (RenameTarget (codes "$(p #)") (codes "a&b"))) ((edit_on 8 (ChangeValue (One (Some 2)) (codes "F") (edits.Append (codes "$(a b) a")))) ∷ []) ∷ on_line 9 (Apply (ChangeValue Every (codes "override") (edits.Set (codes "$x $(w a)")))) ∷ tried_on 10 (ChangeValue Every (codes "F") (edits.Remove (codes "x$(a  b)"))) ∷ [], ends (Refused 1) (codes "1: refused 6 Absent\n") None) ∷  -- alternatives-241
    (true, 100, codes "export F\\\n= -g \\\r\n a#\nc include: # c\n\ttrue\n", on_line 1 (Apply (ChangeValue (One None) (codes "F") (edits.Remove (codes "a")))) ∷ on_line 2 (Apply (AddRecipe None (codes "c") (At 1) (codes "true"))) ∷ [], ends Done [] (Some (codes "export F\\\n= -g#\nc include: # c\n\ttrue\n\ttrue\n"))) ∷  -- alternatives-242
    (true, 100, codes "c: a\r\n>>a\r\n>a \\\r\n\tb\r\nifdef A\r\nifeq (a,b)\r\nF = #\r\nF = $$ $\\ ", on_line 1 (Apply (ChangeValue Every (codes "F") (edits.Set (codes ";")))) ∷ Chain (edit_on 2 (RemoveLines (OfRecipe None (codes "c") (ByText (codes "true"))))) (edit_on 4 (ChangeValue (One None) (codes "X") (edits.Remove (codes "-g")))) ((edit_on 5 (SetRecipe (Some 0) (codes "c") (ByText (codes "a")) (codes "a"))) ∷ []) ∷ [], ends Done [] (Some (codes "c: a\r\n>>a\r\n>a \\\r\n\tb\r\nifdef A\r\nifeq (a,b)\r\nF = ;#\r\nF = ; "))) ∷  -- alternatives-243
    (true, 100, codes "a.b = \\\\ \\\\ \\\n    = a\nF::= a:b  | \\\r\n b b # c", Chain (edit_on 1 (ChangeValue (One None) (codes "F") (edits.Add (codes "b")))) (edit_on 3 (ChangeValue (One None) (codes "F") (edits.Add (codes "$(a b)")))) [] ∷ on_line 4 (Apply (ChangeValue (One None) (codes "F") (edits.Remove (codes "b")))) ∷ tried_on 5 (ChangeValue (One (Some 0)) (codes "F") (edits.Remove (codes "|"))) ∷ on_line 6 Begin ∷ on_line 7 (Apply (RemoveLines (OfAssign (Some 1) (codes "F")))) ∷ on_line 8 (Apply (AddLine Bottom (NewAssign (codes "endef") Append (codes ".PHONY \\$x")))) ∷ on_line 9 (Apply (RemoveLines (OfAssign None (codes "endef")))) ∷ on_line 10 (Apply (AddLine Bottom (NewAssign (codes "override") Immediate (codes "$(s\\) $(p #)")))) ∷ [], ends Done [] (Some (codes "a.b = \\\\ \\\\ \\\n    = a\noverride :::= $(s\\) $(p #)\n"))) ∷  -- alternatives-244
    (false, 100, codes "endefinclude: ;\nelse\noverride a.b\\\n=\\## a \\\\\nifeq (a,b)\nF = $# a \\\n    -O2 \nX = $(a\tb) \\\n$(t \\\n -g)\t-g \n", on_line 1 Redo ∷ on_line 2 (Apply (ChangePrereqs (Some 4294967295) (codes "endefinclude") (RemovePrereq (codes "endefinclude")))) ∷ Chain (edit_on 3 (AddRecipe None (codes "endefinclude") (At 1) (codes " a"))) (edit_on 5 (RemoveLines (OfRecipe (Some 2) (codes "endefinclude") (ByText (codes " a"))))) ((edit_on 6 (ChangeValue (One None) (codes "X") (edits.Remove (codes "-g")))) ∷ []) ∷ on_line 7 (Apply (RemoveLines (OfRecipe None (codes "endefinclude") (ByText (codes " a"))))) ∷ Chain (edit_on 8 (RemoveLines (OfRecipe None (codes "endefinclude") (ByText (codes "a"))))) (edit_on 10 (RenameTarget (codes "a&b") (codes "$(f {)"))) ((edit_on 11 (RemoveLines (OfAssign (Some 4294967295) (codes "X")))) ∷ (edit_on 13 (ChangeValue Every (codes "F") (edits.Set (codes "a")))) ∷ []) ∷ on_line 14 Undo ∷ Chain (edit_on 15 (ChangeValue Every (codes "F") (edits.Remove (codes "a\\ b")))) (edit_on 17 (RemoveLines (OfRecipe None (codes "endefinclude") (ByText (codes " a"))))) [] ∷ on_line 18 Redo ∷ Chain (edit_on 19 (RemoveLines (OfRecipe None (codes "d") (ByText (codes "rm -f x"))))) (edit_on 21 (RemoveLines (OfRecipe None (codes "endefinclude") (ByNumber 0)))) ((edit_on 23 (ChangeValue (One None) (codes "a.b") (edits.Remove (codes "$ b")))) ∷ (edit_on 25 (AddRecipe None (codes "endefinclude") (At 1) (codes "a"))) ∷ []) ∷ [], ends (Refused 1) (codes "1: refused 17 NothingToRedo\n") None) ∷  -- alternatives-245
    (false, 100, codes "F :=-O2", Chain (edit_on 1 (RemoveLines (OfAssign (Some 4294967295) (codes "a.b")))) (edit_on 2 (RemoveLines (OfAssign None (codes "F")))) [] ∷ Chain (edit_on 3 (ChangeValue (One None) (codes "a.b") (edits.Add (codes "$(w a)")))) (edit_on 4 (ChangeValue (One None) (codes "F") (edits.Append (codes "$x a:b")))) ((edit_on 5 (AddLine Bottom (NewRule (codes "$(s\\) c") Single (codes ".PHONY")))) ∷ []) ∷ tried_on 6 (AddRecipe None (codes "$(s\\)") (At 1) (codes "true")) ∷ tried_on 7 (AddRecipe None (codes "$(s\\)") (At 1) (codes "true")) ∷ Chain (edit_on 8 (AddRecipe (Some 4294967295) (codes "$(s\\)") (At 1) (codes "a # b"))) (edit_on 10 (ChangeValue Every (codes "F") (edits.Set []))) ((edit_on 11 (SetRecipe None (codes "c") (ByText (codes "b")) [])) ∷ (edit_on 13 (AddRecipe None (codes "$(s\\)") Last (codes "t"))) ∷ []) ∷ on_line 14 (Apply (AddRecipe None (codes "$(s\\)") (At 1) (codes "true"))) ∷ [], ends Done [] (Some (codes "$(s\\) c: .PHONY\n\ttrue\n\ttrue\n\ttrue\n"))) ∷  -- alternatives-247
    (false, 100, codes "ifdef A\nX != # a \\\\\nelse\nX != a\\$\\\n\t$(w \\\n a) | \\\n \\\n a\\\n\t$x #-g\nendif\na.b ?= \\\n \\\n b# \\\n d\nifdef A\nF:= b\nelse\nX = -g \\\n; =\nendif", on_line 1 (Apply (ChangeValue (One (Some 2)) (codes "X") (edits.Remove (codes "|")))) ∷ tried_on 2 (ChangeValue (One None) (codes "F") (edits.Remove (codes "b"))) ∷ on_line 3 (Apply (ChangeValue Every (codes "F") (edits.Append []))) ∷ [], ends (Refused 1) (codes "3: refused 1 BadArgument value\n") None) ∷  -- alternatives-249
    (true, 100, codes "c: ;\nendif\n\t# n\n\t>a\n\ttrue\nF ::= -g\\\n\\\n-O2#-g\nc: a\nifeq (a,b)\n> a\nF += =\ndefine .RECIPEPREFIX", tried_on 1 (ChangeValue (One (Some 4294967295)) (codes "override") (edits.Append [])) ∷ on_line 2 (Apply (SetRecipe (Some 1) (codes "c") (ByText (codes ">a")) (codes "say \"q\""))) ∷ tried_on 3 (ChangeValue (One (Some 1)) (codes "F") (edits.Remove (codes "-O2"))) ∷ on_line 4 (Apply (AddRecipe None (codes "c") (At 1) (codes "true"))) ∷ on_line 5 (Apply (RemoveLines (OfRecipe (Some 2) (codes "c") (ByNumber 0)))) ∷ tried_on 6 (ChangeValue (One (Some 1)) (codes "F") (edits.Remove (codes "$(t -g)"))) ∷ Chain (edit_on 7 (ChangeValue (One (Some 2)) (codes "F") (edits.Add (codes "=")))) (edit_on 9 (AddRecipe (Some 1) (codes "c") (At 1) (codes "a"))) [] ∷ on_line 10 (Apply (AddRecipe None (codes "c") (At 1) (codes "true"))) ∷ on_line 11 Undo ∷ [], ends (Refused 9) (codes "1: refused 1 BadArgument value\n2: refused 3 RecipePrefix\n3: refused 3 RecipePrefix\n4: refused 3 RecipePrefix\n5: refused 3 RecipePrefix\n6: refused 3 RecipePrefix\n7: refused 3 RecipePrefix\n10: refused 3 RecipePrefix\n11: refused 16 NothingToUndo\n") (Some (codes "c: ;\nendif\n\t# n\n\t>a\n\ttrue\nF ::= -g\\\n\\\n-O2#-g\nc: a\nifeq (a,b)\n> a\nF += =\ndefine .RECIPEPREFIX"))) ∷  -- alternatives-250
    (false, 100, codes "c:\nF!= a:b a$  \\\n \\\n b# \\\n d\nexport override= \n", on_line 1 (Apply (ChangeValue (One None) (codes "override") (edits.Remove (codes "a$ b")))) ∷ tried_on 2 (ChangeValue (One None) (codes "F") (edits.Append (codes "$(A -g) \\\\a"))) ∷ on_line 3 (Apply (SetRecipe (Some 0) (codes "c") (ByText (codes "b")) (codes "say \"q\""))) ∷ tried_on 4 (SetRecipe None (codes "c") (ByText (codes " a")) (codes " a")) ∷ on_line 5 (Apply (RemoveLines (OfRecipe None (codes "c") (ByText (codes ">a"))))) ∷ on_line 6 Redo ∷ Chain (edit_on 7 (ChangeValue Every (codes "override") (edits.Remove (codes "$(w a)")))) (edit_on 9 (SetRecipe None (codes "c") (ByText (codes "ifdef Q")) (codes "# n"))) [] ∷ on_line 10 (Apply (SetRecipe None (codes "c") (ByText (codes "b")) (codes "rm -f x"))) ∷ Chain (edit_on 11 (AddRecipe None (codes "c") (At 0) (codes "rm -f x"))) (edit_on 12 (ChangeValue (One (Some 4294967295)) (codes "F") (edits.Remove (codes "$(w a)")))) ((edit_on 14 (RemoveLines (OfAssign None (codes "F")))) ∷ (edit_on 16 (ChangeValue (One None) (codes "F") (edits.Append (codes "a\\\\")))) ∷ []) ∷ on_line 17 Begin ∷ [], ends (Refused 1) (codes "1: refused 6 Absent\n") None) ∷  -- alternatives-251
    []

answers_5 : map (λ row. came_to row.0 row.1 row.2 row.3) rows_5 ≡ map (λ row. row.4) rows_5
unfolding digits
answers_5 = refl

abbrev rows_6 : List (Bool × ℕ × List ℕ × List Step × RunResult)
rows_6 =
    (true, 100, codes "c:\n\ttrue\n\ttrue\nd:\n>\n>\noverride X::=-O2#\r", on_line 1 (Apply (SetRecipe None (codes "d") (ByText (codes "rm -f x")) (codes "a\0"))) ∷ on_line 2 (Apply (AddRecipe None (codes "d") (At 1) (codes "t"))) ∷ on_line 3 End ∷ on_line 4 (Apply (RemoveLines (OfRule None (codes "d")))) ∷ on_line 5 (Apply (ChangeValue (One (Some 1)) (codes "$(X)") (edits.Add (codes "a")))) ∷ Chain (edit_on 6 (ChangeValue (One None) (codes "F") (edits.Append (codes "a:b a\\ b")))) (edit_on 7 (SetRecipe None (codes "c") (ByText (codes "true")) (codes "x \\ y"))) [] ∷ on_line 8 (Apply (SetRecipe None (codes "c") (ByText (codes "true")) (codes "true"))) ∷ tried_on 9 (ChangeValue Every (codes "F") (edits.Add (codes "-g"))) ∷ Chain (edit_on 10 (SetRecipe None (codes "c") (ByText (codes "x \\ y")) (codes "a # b"))) (edit_on 12 (RemoveLines (OfRecipe None (codes "d") (ByText (codes "a"))))) ((edit_on 13 (ChangeValue (One None) (codes "a.b") (edits.Append []))) ∷ []) ∷ on_line 14 (Apply (ChangeValue (One None) (codes "F") (edits.Set (codes "-g")))) ∷ [], ends (Refused 6) (codes "1: refused 1 BadArgument line\n3: refused 19 NoGroup\n5: refused 1 BadArgument name\n7: refused 5 Ambiguous 2\n8: refused 5 Ambiguous 2\n14: refused 4 NoSuch\n") (Some (codes "c:\n\ttrue\n\ttrue\n>\n>\noverride X::=-O2#\r"))) ∷  -- alternatives-252
    (true, 100, codes "foo  : -include2 t \nF != -g ; -O2\n", Chain (edit_on 1 (SetRecipe None (codes "foo") (ByText (codes "b")) (codes "ifdef Q"))) (edit_on 2 (ChangeValue (One (Some 0)) (codes "F") (edits.Remove (codes "-g")))) ((edit_on 3 (ChangeValue (One (Some 4294967295)) (codes "override") (edits.Set (codes "x$(a  b)")))) ∷ (edit_on 4 (ChangeValue (One None) (codes "F") (edits.Remove (codes "-g")))) ∷ []) ∷ on_line 5 (Apply (RemoveLines (OfAssign None (codes "X")))) ∷ tried_on 6 (ChangeValue (One None) (codes "F") (edits.Add (codes "-g"))) ∷ on_line 7 Redo ∷ [], ends (Refused 2) (codes "5: refused 4 NoSuch\n7: refused 17 NothingToRedo\n") (Some (codes "foo  : -include2 t \nF != -g ; -O2\n"))) ∷  -- alternatives-253
    (false, 100, codes "d&: ; true\r\n\t\\\r\n\r\n\ta\r\nexport a.b!= a:b |\r\noverride\\\r\n= -g\\\r\na\r\nF\\\r\n::= ;\\\r\n -g\\\r\n$(A -g)# c", Chain (edit_on 1 (ChangePrereqs (Some 2) (codes "$$") (RemovePrereq (codes "d")))) (edit_on 2 (ChangeValue (One None) (codes "F") (edits.Remove (codes "-g")))) [] ∷ on_line 3 Undo ∷ [], ends Done [] (Some (codes "d&: ; true\r\n\t\\\r\n\r\n\ta\r\nexport a.b!= a:b |\r\noverride\\\r\n= -g\\\r\na\r\nF\\\r\n::= ;\\\r\n -g\\\r\n$(A -g)# c"))) ∷  -- alternatives-254
    (true, 100, codes "d:\r\n\tsay \"q\"\r\n\ta # b\r\n\tb\r\n", on_line 1 (Apply (ChangeValue Every (codes "X") (edits.Set (codes "a $x")))) ∷ on_line 2 (Apply (RemoveLines (OfRecipe None (codes "d") (ByText (codes "b"))))) ∷ tried_on 3 (AddRecipe None (codes "d") (At 1) (codes "say \"q\"")) ∷ on_line 4 End ∷ Chain (edit_on 5 (ChangePrereqs (Some 0) (codes "d") (AddPrereq true (codes "a&b")))) (edit_on 6 (SetRecipe (Some 2) (codes "d") (ByText (codes "\\")) (codes "a"))) [] ∷ on_line 7 (Apply (AddLine Bottom (NewRule (codes "a") Single []))) ∷ on_line 8 (Apply (ChangeValue Every (codes "F") (edits.Remove (codes "$(s (b) a)")))) ∷ tried_on 9 (ChangePrereqs None (codes "-include2") (AddPrereq true (codes "$(q:;=|)"))) ∷ [], ends (Refused 4) (codes "1: refused 4 NoSuch\n4: refused 19 NoGroup\n6: refused 1 BadArgument old\n8: refused 4 NoSuch\n") (Some (codes "d:\r\n\tsay \"q\"\r\n\tsay \"q\"\r\n\ta # b\r\na:\r\n"))) ∷  -- alternatives-257
    (false, 100, codes "F =\tx$(a  b)\na.b = -g \\\n \\\n b \nc c: ;\n\tx \\ y\n # n\n\ta\n", on_line 1 (Apply (ChangeValue (One (Some 1)) (codes "a.b") (edits.Set []))) ∷ on_line 2 (Apply (AddRecipe None (codes "c") (At 2) (codes "true"))) ∷ on_line 3 (Apply (ChangeValue (One None) (codes "X") (edits.Append (codes "-O2 $x")))) ∷ Chain (edit_on 4 (ChangeValue (One None) (codes "a.b") (edits.Remove (codes "$x")))) (edit_on 6 (RemoveLines (OfAssign None (codes "X")))) ((edit_on 8 (SetRecipe None (codes "c") (ByText (codes "x \\ y")) (codes "a # b"))) ∷ (edit_on 9 (ChangeValue (One (Some 0)) (codes "F") (edits.Append (codes "a -O2")))) ∷ []) ∷ on_line 10 Cancel ∷ Chain (edit_on 11 (ChangeValue (One (Some 4294967295)) (codes "a.b") (edits.Remove (codes "$x")))) (edit_on 13 (AddRecipe (Some 0) (codes "c") Last (codes "t"))) ((edit_on 14 (AddRecipe (Some 0) (codes "c") (At 1) (codes "true"))) ∷ []) ∷ on_line 15 Redo ∷ [], ends (Refused 1) (codes "3: refused 4 NoSuch\n") None) ∷  -- alternatives-258
    (true, 100, codes "define \n", on_line 1 (Apply (ChangeValue (One None) (codes "F") (edits.Remove (codes "-O2")))) ∷ tried_on 2 (ChangeValue (One (Some 4294967295)) (codes "F") (edits.Add (codes "a"))) ∷ on_line 3 (Apply (ChangeValue Every (codes "X") (edits.Append (codes "-O2 -O2")))) ∷ on_line 4 Begin ∷ on_line 5 (Apply (ChangeValue (One None) (codes "X$:") (edits.Remove (codes "a$ ")))) ∷ on_line 6 (Apply (ChangeValue Every (codes "a.b") (edits.Append (codes "| x=1")))) ∷ tried_on 7 (ChangeValue Every (codes "F") (edits.Append (codes "-O2"))) ∷ [], ends (Refused 4) (codes "1: refused 4 NoSuch\n3: refused 4 NoSuch\n5: refused 1 BadArgument name\n6: refused 4 NoSuch\n") (Some (codes "define \n"))) ∷  -- alternatives-259
    (false, 100, codes "c: a\n\ttrue\n\t\ttrue\noverride = \\\n    a\\\\\\\n\ta a  |  x$(a  b) \nifdef A\na.b\\\n=| \nelse\noverride\\\n= b \nendif\n", Chain (edit_on 1 (RemoveLines (OfAssign (Some 0) (codes "F")))) (edit_on 2 (RemoveLines (OfRecipe None (codes "c") (ByText (codes "\ttrue"))))) [] ∷ Chain (edit_on 3 (RemoveLines (OfAssign None (codes "F")))) (edit_on 5 (ChangeValue (One None) (codes "a.b") (edits.Add (codes "|")))) ((edit_on 6 (ChangeValue (One (Some 0)) (codes "a.b") (edits.Remove (codes "|")))) ∷ (edit_on 7 (AddRecipe None (codes "c") (At 1) [])) ∷ []) ∷ on_line 8 (Apply (ChangeValue (One None) (codes "a.b") (edits.Remove (codes "|")))) ∷ tried_on 9 (ChangeValue Every (codes "F") (edits.Remove (codes "-g"))) ∷ on_line 10 (Apply (ChangeValue (One None) (codes "override") (edits.Append (codes "${c}")))) ∷ on_line 11 (Apply (RemoveLines (OfRecipe (Some 1) (codes "c") (ByText (codes "true"))))) ∷ Chain (edit_on 12 (ChangeValue (One None) (codes "X") (edits.Append (codes "a:b")))) (edit_on 13 (RemoveLines (OfRecipe (Some 4294967295) (codes "c") (ByText (codes "true"))))) ((edit_on 15 (AddRecipe (Some 0) (codes "c") (At 1) (codes " a"))) ∷ (edit_on 16 (RemoveLines (OfAssign None (codes "a.b")))) ∷ []) ∷ [], ends Done [] (Some (codes "c: a\noverride = \\\n    a\\\\\\\n\ta a  |  x$(a  b) \nifdef A\nelse\noverride\\\n= b ${c} \nendif\n"))) ∷  -- alternatives-260
    (false, 100, codes ".RECIPEPREFIX = >\nX += b b\\\n\\\n# c\nc: a\nelse\n\tb\nifeq (a,b)\ninclude:\n\ttrue\n\tifdef Q\n\ttrue\noverride+= -O2\nexport override ?= $(t \\\n -g) -g b a:b\\\n\\\nb# \\\n d", tried_on 1 (RemoveLines (OfAssign None (codes "X"))) ∷ Chain (edit_on 2 (ChangeValue (One None) (codes "F") (edits.Set []))) (edit_on 3 (ChangeValue (One None) (codes "X") (edits.Set (codes "a")))) [] ∷ on_line 4 (Apply (ChangeValue Every (codes "override") (edits.Remove (codes "-O2")))) ∷ tried_on 5 (ChangeValue (One (Some 2)) (codes "override") (edits.Add (codes "a$ b"))) ∷ on_line 6 (Apply (ChangeValue (One None) (codes "F") (edits.Add (codes "$")))) ∷ [], ends (Refused 1) (codes "3: refused 4 NoSuch\n") None) ∷  -- alternatives-261
    (true, 100, codes ".RECIPEPREFIX = >\r\nF =a -O2\r\nc: # c\r\n\trm -rf x\r\n\ta\r\n\ta\\\r\n>b\r\noverride F != -g\t=\\\r\n-g# \\\r\n d\r\n\t\r\nF ::=b \\\r\n    a\\\r\nb\\\r\n -O2 a# c\r\n", Chain (edit_on 1 (ChangeValue (One (Some 3)) (codes "F") (edits.Add (codes "b")))) (edit_on 2 (AddRecipe (Some 4294967295) (codes "c") (At 1) (codes "true"))) ((edit_on 4 (AddRecipe None (codes "c") (At 1) (codes "a # b"))) ∷ []) ∷ on_line 5 (Apply (ChangeValue Every (codes "F") (edits.Remove (codes "a")))) ∷ Chain (edit_on 6 (ChangeValue (One (Some 2)) (codes "F") (edits.Remove (codes "x=1")))) (edit_on 8 (ChangeValue (One (Some 1)) (codes "F") (edits.Add (codes "b")))) [] ∷ on_line 9 (Apply (ChangeValue (One (Some 3)) (codes "F") (edits.Add (codes "$x")))) ∷ tried_on 10 (ChangeValue (One (Some 4294967295)) (codes "F") (edits.Set [])) ∷ Chain (edit_on 11 (AddRecipe (Some 2) (codes "c") (At 1) (codes "a"))) (edit_on 13 (ChangeValue (One (Some 3)) (codes "F") (edits.Remove (codes "b")))) [] ∷ on_line 14 (Apply (ChangeValue (One (Some 2)) (codes "F") (edits.Set (codes "\\\\a")))) ∷ on_line 15 (Apply (AddRecipe None (codes "c") (At 1) (codes "say \"q\""))) ∷ [], ends Done [] (Some (codes ".RECIPEPREFIX = >\r\nF =-O2\r\nc: # c\r\n>say \"q\"\r\n\trm -rf x\r\n\ta\r\n\ta\\\r\n>b\r\noverride F != \\\\a# \\\r\n d\r\n\t\r\nF ::=-O2 $x# c\r\n"))) ∷  -- alternatives-262
    (false, 100, codes "F != -g\\\r\n$# a\\ # a \\\\\r\nF ?=a $(u \\\r\n    $(s (b) a) x=1\r\nF = $(s (b) a) = -g \\\r\nb \\\r\n \\\r\n -O2 ", on_line 1 (Apply (ChangeValue Every (codes "F") (edits.Remove (codes "-g")))) ∷ Chain (edit_on 2 (ChangeValue (One (Some 1)) (codes "override") (edits.Set (codes "-g")))) (edit_on 4 (AddRecipe None (codes "c") (At 1) (codes "true"))) ((edit_on 5 (RemoveLines (OfAssign (Some 2) (codes "F")))) ∷ (edit_on 6 (RemoveLines (OfAssign (Some 1) (codes "F")))) ∷ []) ∷ Chain (edit_on 7 (ChangeValue (One (Some 1)) (codes "F") (edits.Remove (codes "a\\ ")))) (edit_on 9 (ChangeValue (One (Some 1)) (codes "F") (edits.Add (codes "b")))) [] ∷ Chain (edit_on 10 (ChangeValue (One (Some 2)) (codes "F") (edits.Remove (codes "$(t -g)")))) (edit_on 12 (ChangeValue Every (codes "F") (edits.Set (codes "$(s (b) a) a")))) [] ∷ on_line 13 (Apply (ChangeValue Every (codes "F") (edits.Append (codes "$(t -g) -g")))) ∷ on_line 14 Undo ∷ on_line 15 Begin ∷ on_line 16 End ∷ [], ends (Refused 1) (codes "7: refused 1 BadArgument word\n") None) ∷  -- alternatives-263
    (true, 100, codes ".RECIPEPREFIX = >\ninclude: ; true\n \n # n\nifdef A\noverride F= a\\\n\t\nc d: ;", on_line 1 (Apply (ChangeValue (One None) (codes "F") (edits.Add (codes "-g")))) ∷ tried_on 2 (ChangeValue (One (Some 4294967295)) (codes "X") (edits.Add (codes "b"))) ∷ on_line 3 (Apply (ChangeValue Every (codes "F") (edits.Remove (codes "a")))) ∷ Chain (edit_on 4 (RemoveLines (OfRecipe None (codes "c") (ByText [])))) (edit_on 6 (ChangeValue (One None) (codes "F") (edits.Set (codes "$# |")))) [] ∷ on_line 7 (Apply (RemoveLines (OfAssign None (codes "F")))) ∷ on_line 8 (Apply (ChangeValue (One (Some 1)) (codes "X") (edits.Remove (codes "${c}")))) ∷ tried_on 9 (AddLine (BeforeRule None (codes "d")) (NewAssign (codes "A") Immediate (codes "\\$x"))) ∷ tried_on 10 (ChangeValue (One None) (codes "A") (edits.Add (codes "-O2"))) ∷ [], ends (Refused 1) (codes "8: refused 4 NoSuch\n") (Some (codes ".RECIPEPREFIX = >\ninclude: ; true\n \n # n\nifdef A\nA :::= \\$x -O2\nc d: ;"))) ∷  -- alternatives-264
    (false, 100, codes "F := = \\\r\n $x \\\\ $(t \\\r\n -g)", on_line 1 (Apply (ChangeValue (One None) (codes "F") (edits.Add (codes "\\\\a")))) ∷ Chain (edit_on 2 (ChangeValue (One None) (codes "F") (edits.Add (codes "$(t -g)")))) (edit_on 3 (ChangeValue Every (codes "F") (edits.Add (codes "\\\\a")))) [] ∷ on_line 4 (Apply (ChangeValue (One None) (codes "F") (edits.Remove (codes "\\\\")))) ∷ [], ends (Refused 1) (codes "4: refused 1 BadArgument word\n") None) ∷  -- alternatives-265
    (true, 100, codes "c: ; true\noverride X\\\n:= a$  -O2\\\n\\\n$(s (b) a) -g \\\r\n b \n", tried_on 1 (ChangeValue (One None) (codes "\\#x") (edits.Remove (codes "b"))) ∷ on_line 2 End ∷ tried_on 3 (AddRecipe (Some 2) (codes "c") (At 1) (codes "a")) ∷ tried_on 4 (ChangeValue (One None) (codes "X") (edits.Remove (codes "a$ "))) ∷ on_line 5 (Apply (ChangeValue (One None) (codes "F") (edits.Append (codes "a:b $(t -g)")))) ∷ on_line 6 (Apply (ChangeValue (One (Some 1)) (codes "X") (edits.Add (codes "-O2")))) ∷ tried_on 7 (ChangeValue Every (codes "X") (edits.Add (codes "b"))) ∷ [], ends (Refused 5) (codes "1: refused 1 BadArgument name\n2: refused 19 NoGroup\n4: refused 1 BadArgument word\n5: refused 4 NoSuch\n6: refused 7 Already\n") (Some (codes "c: ; true\noverride X\\\n:= a$  -O2\\\n\\\n$(s (b) a) -g \\\r\n b \n"))) ∷  -- alternatives-266
    (false, 100, codes "c:: ; true\n>\ttrue\nF= |\\\n\\\n-g ; \\\n    -O2 \\\n${g(} b&:::| \t\\\n\t\\\r\n#\0\n%.o: a | b\n\t\n\t# n\nendif\n$(s\\)&::\\\n\\\n  | \t\n", on_line 1 (Apply (AddRecipe (Some 2) (codes "$(s\\)") (At 1) (codes "true"))) ∷ Chain (edit_on 2 (RemoveLines (OfRecipe None (codes "c") (ByText (codes "ifdef Q"))))) (edit_on 3 (RemoveLines (OfRecipe None (codes "$(s\\)") (ByText (codes "b"))))) ((edit_on 4 (AddRecipe None (codes "c") (At 1) (codes "say \"q\""))) ∷ (edit_on 5 (AddRecipe None (codes "c") (At 1) (codes "a # b"))) ∷ []) ∷ on_line 6 (Apply (RemoveLines (OfRecipe None (codes "c") (ByText (codes "ifdef Q"))))) ∷ on_line 7 (Apply (AddRecipe (Some 1) (codes "$(s\\)") (At 1) (codes "b"))) ∷ tried_on 8 (ChangeValue Every (codes "F") (edits.Remove (codes "-g"))) ∷ on_line 9 (Apply (RemoveLines (OfRecipe None (codes "d") (ByText (codes "true"))))) ∷ on_line 10 (Apply (ChangeValue (One None) (codes "X") (edits.Append (codes "a$ b")))) ∷ on_line 11 (Apply (ChangeValue (One None) (codes "F") (edits.Append []))) ∷ [], ends (Refused 1) (codes "1: refused 4 NoSuch\n") None) ∷  -- alternatives-267
    (true, 100, codes "override != ;#-g\n", tried_on 1 (ChangeValue (One (Some 1)) (codes "override") (edits.Set (codes "a\\ b"))) ∷ Chain (edit_on 2 (ChangeValue (One None) (codes "override") (edits.Add (codes "a$ b")))) (edit_on 4 (RemoveLines (OfAssign None (codes "F")))) ((edit_on 5 (ChangeValue (One None) (codes "override") (edits.Add (codes "a\\ b")))) ∷ (edit_on 7 (ChangeValue (One None) (codes "override") (edits.Add (codes "a")))) ∷ []) ∷ on_line 8 (Apply (ChangeValue Every (codes "F") (edits.Remove (codes "-g")))) ∷ on_line 10 (Apply (ChangeValue (One None) (codes "override") (edits.Remove (codes "a\\ b")))) ∷ on_line 11 (Apply (ChangeValue (One None) (codes "override") (edits.Remove (codes "a$ b")))) ∷ [], ends (Refused 1) (codes "8: refused 4 NoSuch\n") (Some (codes "override != #-g\n"))) ∷  -- alternatives-268
    (true, 100, codes "a.b ::=  \nF::= a \\\n \\\n x$(a  b) -O2 $(w \\\n a)\n", on_line 1 (Apply (ChangeValue Every (codes "F") (edits.Set (codes "a$ b |")))) ∷ on_line 2 (Apply (RemoveLines (OfAssign None (codes "a.b")))) ∷ on_line 3 (Apply (ChangeValue (One (Some 1)) (codes "F") (edits.Remove (codes "a$ b")))) ∷ on_line 4 (Apply (ChangeValue (One None) (codes "F") (edits.Remove (codes "|")))) ∷ Chain (edit_on 5 (RemoveLines (OfAssign None (codes "F")))) (edit_on 6 (ChangeValue (One None) (codes "F") (edits.Set (codes "1")))) [] ∷ tried_on 7 (RemoveLines (OfAssign (Some 1) (codes "a.b"))) ∷ on_line 8 Undo ∷ on_line 9 Undo ∷ [], ends Done [] (Some (codes "F::= |\n"))) ∷  -- alternatives-269
    (false, 100, codes "F = -g\nc: a\n>rm -rf x\n>>a\n>rm -f x\n", Chain (edit_on 1 (RemoveLines (OfAssign (Some 1) (codes "X")))) (edit_on 2 (ChangeValue (One (Some 0)) (codes "F") (edits.Remove (codes "-g")))) [] ∷ on_line 3 (Apply (RemoveLines (OfRecipe None (codes "c") (ByText (codes "a # b"))))) ∷ on_line 4 (Apply (ChangeValue (One None) (codes "F") (edits.Remove (codes "-g")))) ∷ on_line 5 Undo ∷ on_line 6 (Apply (ChangePrereqs None (codes "c") (RemovePrereq (codes "a")))) ∷ on_line 7 (Apply (ChangeValue (One None) (codes "F") (edits.Add (codes "a\\ b")))) ∷ Chain (edit_on 8 (ChangeValue (One None) (codes "a.b") (edits.Append (codes "= a:b")))) (edit_on 10 (ChangeValue (One None) (codes "X") (edits.Set (codes "x$(a  b) ;")))) [] ∷ [], ends (Refused 1) (codes "2: refused 4 NoSuch\n") None) ∷  -- alternatives-270
    (false, 100, codes "ifdef A\nexport F\\\n= $#\nendif\n", tried_on 1 (ChangeValue (One None) (codes "F") (edits.Remove (codes "$#"))) ∷ on_line 2 (Apply (AddLine Bottom (NewAssign (codes "e") Immediate []))) ∷ on_line 3 (Apply (ChangeValue (One None) (codes "F") (edits.Add (codes "-g")))) ∷ tried_on 4 (ChangeValue (One None) (codes "F") (edits.Remove (codes "-g"))) ∷ on_line 5 (Apply (ChangeValue Every (codes "e") (edits.Add (codes "-O2")))) ∷ tried_on 6 (ChangeValue (One (Some 0)) (codes "F") (edits.Set (codes "1"))) ∷ Chain (edit_on 7 (ChangeValue (One None) (codes "F") (edits.Remove (codes "=")))) (edit_on 8 (ChangeValue (One None) (codes "F") (edits.Set (codes "%.o t")))) [] ∷ on_line 9 (Apply (ChangeValue (One None) (codes "F") (edits.Add (codes "a")))) ∷ on_line 10 (Apply (ChangeValue (One None) (codes "F") (edits.Set []))) ∷ on_line 11 (Apply (ChangeValue (One None) (codes "e") (edits.Remove (codes "-O2")))) ∷ [], ends Done [] (Some (codes "ifdef A\nexport F\\\n= \nendif\ne :::=\n"))) ∷  -- alternatives-272
    (false, 100, codes "c: ; true\n\tifdef Q\n\t# n\n\t\nF != a:b  -g\\\n\tb\nendef\\\n", on_line 1 (Apply (SetRecipe (Some 1) (codes "c") (ByText (codes "# n")) (codes "t"))) ∷ Chain (edit_on 2 (SetRecipe None (codes "c") (ByText (codes "ifdef Q")) (codes "rm -f x"))) (edit_on 4 (ChangeValue (One None) (codes "F") (edits.Append (codes "=")))) [] ∷ on_line 5 (Apply (RemoveLines (OfRecipe None (codes "c") (ByText [])))) ∷ on_line 6 (Apply (ChangeValue (One None) (codes "F") (edits.Remove (codes "-g")))) ∷ [], ends Done [] (Some (codes "c: ; true\n\trm -f x\n\tt\nF != a:b\\\n\tb\nendef\\\n"))) ∷  -- alternatives-274
    (true, 100, codes "c: ; true\r\n\tt\r\n\tifdef Q\r\nF= = \\\r\n    =\\\r\n = \r\nF\\\r\n= -g -g\ta b x=1\r\n", on_line 1 (Apply (ChangeValue Every (codes "F") (edits.Remove (codes "-g")))) ∷ Chain (edit_on 2 (AddRecipe None (codes "c") (At 4294967295) (codes "a # b"))) (edit_on 4 (AddRecipe (Some 1) (codes "c") (At 1) (codes "true"))) ((edit_on 6 (AddLine Bottom (NewAssign (codes "override") Append (codes "$$")))) ∷ []) ∷ on_line 7 Begin ∷ on_line 8 (Apply (ChangeValue Every (codes "F") (edits.Add (codes "b")))) ∷ on_line 9 (Apply (RemoveLines (OfRecipe None (codes "c") (ByText (codes "t"))))) ∷ [], ends Done [] (Some (codes "c: ; true\r\n\tifdef Q\r\nF= = \\\r\n    =\\\r\n = b \r\nF\\\r\n= a b x=1\r\n"))) ∷  -- alternatives-275
    (false, 100, codes "c c:\n\t\n\ta\noverride =b\\\n $(t \\\n -g) # \\\n d\n", on_line 1 (Apply (RemoveLines (OfAssign (Some 0) (codes "X")))) ∷ tried_on 2 (ChangeValue (One (Some 4294967295)) (codes "override") (edits.Remove (codes "$(t -g)"))) ∷ tried_on 3 (RemoveLines (OfRecipe (Some 2) (codes "c") (ByText []))) ∷ tried_on 4 (ChangeValue Every (codes "F") (edits.Add (codes "-g"))) ∷ on_line 5 (Apply (SetRecipe None (codes "c") (ByText []) (codes "a # b"))) ∷ on_line 6 Undo ∷ on_line 7 (Apply (RemoveLines (OfAssign (Some 4294967295) (codes "F")))) ∷ on_line 8 (Apply (ChangeValue (One None) (codes "override") (edits.Add (codes "$(t -g)")))) ∷ [], ends (Refused 1) (codes "1: refused 4 NoSuch\n") None) ∷  -- alternatives-276
    (true, 100, codes "X += a\\  \\\r\n    ;\r\nc: ;\r\n\tt\r\n\tsay \"q\"\r\n\t a\r\nd: a | b\r\n\ttrue ", on_line 1 (Apply (ChangeValue Every (codes "F") (edits.Remove (codes "-g")))) ∷ on_line 2 Begin ∷ on_line 3 (Apply (RemoveLines (OfRecipe (Some 1) (codes "c") (ByText (codes "t"))))) ∷ tried_on 4 (AddRecipe None (codes "d") (At 2) (codes "true")) ∷ [], ends (Refused 1) (codes "1: refused 4 NoSuch\n") (Some (codes "X += a\\  \\\r\n    ;\r\nc: ;\r\n\tsay \"q\"\r\n\t a\r\nd: a | b\r\n\ttrue \r\n\ttrue\r\n"))) ∷  -- alternatives-277
    (false, 100, codes ".RECIPEPREFIX = >\nc: # c\n\ttrue\n\tx \\ y\nc: ; true\nc:\n\t>a\n\ta # b\n\t\nexport F =\\\n\\\n-O2 a# \\\n d\r", Chain (edit_on 1 (RemoveLines (OfAssign None (codes "F")))) (edit_on 3 (AddRecipe (Some 2) (codes "c") (At 1) (codes " a"))) [] ∷ Chain (edit_on 4 (ChangeValue (One None) (codes "X") (edits.Remove (codes "-g")))) (edit_on 6 (ChangeValue (One (Some 4294967295)) (codes "override") (edits.Add (codes "b")))) ((edit_on 8 (ChangeValue Every (codes "F") (edits.Add (codes "$(t -g)")))) ∷ []) ∷ on_line 9 (Apply (AddRecipe (Some 1) (codes "c") (At 1) (codes "t"))) ∷ on_line 10 (Apply (RemoveLines (OfRecipe (Some 2) (codes "c") (ByText (codes " a"))))) ∷ on_line 12 Undo ∷ [], ends (Refused 1) (codes "8: refused 4 NoSuch\n") None) ∷  -- alternatives-278
    (true, 100, codes "%.o: a | b\n# \\\n n\na.b := # c\nX::=a = a a\\$\\\n\nF = a:b \\\r\n $$\\\n\\\n-g a =\n", on_line 1 (Apply (ChangeValue (One None) (codes "F") (edits.Remove (codes "a")))) ∷ Chain (edit_on 2 (AddRecipe None (codes "c") (At 1) (codes "true"))) (edit_on 3 (ChangeValue Every (codes "X") (edits.Set (codes "a")))) [] ∷ Chain (edit_on 4 (ChangeValue (One None) (codes "a.b") (edits.Remove (codes "a")))) (edit_on 5 (AddRecipe None (codes "%.o") Last (codes "cÿ"))) [] ∷ on_line 6 (Apply (ChangeValue (One None) (codes "F") (edits.Set (codes "|")))) ∷ tried_on 7 (ChangeValue (One None) (codes "F") (edits.Add (codes "b"))) ∷ on_line 8 Begin ∷ on_line 9 (Apply (ChangeValue (One None) (codes "a.b") (edits.Set []))) ∷ on_line 10 (Apply (ChangeValue (One None) (codes "a.b") (edits.Add (codes ";")))) ∷ on_line 11 Cancel ∷ [], ends Done [] (Some (codes "%.o: a | b\n# \\\n n\na.b := # c\nX::=a\nF = | b\n"))) ∷  -- alternatives-279
    (false, 100, codes "d&: a\n\trm -f x\noverride F=a:b \\\nb \\\n    -g \\\n \\\n -g \\\n$(s (b) a)# \\\n d", tried_on 1 (ChangeValue (One (Some 2)) (codes "F") (edits.Add (codes "\\\\a"))) ∷ on_line 2 (Apply (ChangeValue (One (Some 4294967295)) (codes "F") (edits.Remove (codes "a:b")))) ∷ Chain (edit_on 3 (ChangeValue Every (codes "F") (edits.Remove (codes "-g")))) (edit_on 4 (ChangeValue (One None) (codes "F") (edits.Remove (codes "b")))) ((edit_on 6 (RenameTarget (codes "x.o") (codes "$$"))) ∷ []) ∷ on_line 7 (Apply (AddRecipe (Some 1) (codes "d") Last [])) ∷ on_line 8 (Apply (ChangeValue (One None) (codes "F") (edits.Add (codes "a:b")))) ∷ on_line 9 (Apply (SetRecipe None (codes "d") (ByText []) [])) ∷ Chain (edit_on 10 (ChangeValue (One (Some 0)) (codes "F") (edits.Remove (codes "a:b")))) (edit_on 11 (SetRecipe None (codes "d") (ByText []) (codes "t"))) [] ∷ tried_on 12 (ChangeValue Every (codes "F") (edits.Add (codes "-g"))) ∷ on_line 13 Redo ∷ Chain (edit_on 14 (ChangePrereqs None (codes "$(s\\)") (AddPrereq true (codes "$(s\\)")))) (edit_on 16 (SetRecipe None (codes "d") (ByText (codes "rm -f x")) (codes "a"))) [] ∷ [], ends (Refused 1) (codes "2: refused 4 NoSuch\n") None) ∷  -- alternatives-280
    (false, 100, codes ".RECIPEPREFIX = >\nendef\nF= b -g#-g\n", on_line 1 (Apply (ChangeValue Every (codes "F") (edits.Append (codes "$(A -g)")))) ∷ on_line 2 (Apply (ChangeValue (One None) (codes "F") (edits.Remove (codes "b")))) ∷ on_line 3 Undo ∷ on_line 4 (Apply (ChangeValue Every (codes "F") (edits.Remove (codes "$(A -g)")))) ∷ on_line 5 (Apply (ChangeValue (One None) (codes "F") (edits.Remove (codes "-g")))) ∷ on_line 6 Undo ∷ on_line 7 (Apply (ChangeValue (One None) (codes "F") (edits.Append (codes "$x")))) ∷ Chain (edit_on 8 (ChangeValue (One None) (codes "F") (edits.Remove (codes "b")))) (edit_on 10 (ChangeValue (One None) (codes "F") (edits.Remove (codes "-g")))) [] ∷ [], ends Done [] (Some (codes ".RECIPEPREFIX = >\nendef\nF= -g $x#-g\n"))) ∷  -- alternatives-281
    (false, 100, codes "X\\\n= b # c\nifdef A\nF:= b\nelse\nexport F ?=  b  b ;\nendif\nc&: a | b\n\ta\\\n>b\n\ttrue\n\tx \\ y\n", on_line 1 Redo ∷ on_line 2 (Apply (ChangeValue (One None) (codes "F") (edits.Remove (codes "b")))) ∷ on_line 3 (Apply (ChangeValue (One None) (codes "F") (edits.Append (codes "= $\\x")))) ∷ [], ends (Refused 1) (codes "1: refused 17 NothingToRedo\n") None) ∷  -- alternatives-282
    (true, 100, codes "c: ; true\nX\\\n?= \\\n \\\n b\\\n -O2\nF?= a\\ \nc: a\n\tx \\ y", Chain (edit_on 1 (ChangeValue Every (codes "X") (edits.Add (codes "b")))) (edit_on 3 (RemoveLines (OfRecipe (Some 2) (codes "c") (ByText (codes "x \\ y"))))) [] ∷ Chain (edit_on 4 (ChangeValue (One (Some 0)) (codes "X") (edits.Add (codes "-g")))) (edit_on 5 (RemoveLines (OfRule None (codes "c")))) [] ∷ Chain (edit_on 6 (ChangeValue (One (Some 0)) (codes "X") (edits.Set []))) (edit_on 8 (ChangeValue (One (Some 2)) (codes "F") (edits.Add (codes "$(w a)")))) ((edit_on 9 (ChangeValue Every (codes "F") (edits.Remove (codes "a\\ ")))) ∷ []) ∷ Chain (edit_on 10 (RenameTarget (codes "a") (codes "a&b"))) (edit_on 12 (AddRecipe (Some 2) (codes "c") (At 4294967295) (codes "# n"))) ((edit_on 13 (RemoveLines (OfRecipe (Some 1) (codes "c") (ByText (codes "# n"))))) ∷ (edit_on 15 (ChangeValue (One (Some 4294967295)) (codes "F") (edits.Remove (codes "a\\ ")))) ∷ []) ∷ on_line 16 (Apply (ChangeValue (One (Some 4294967295)) (codes "F") (edits.Remove (codes "a\\ ")))) ∷ on_line 17 (Apply (AddRecipe (Some 2) (codes "c") (At 2) (codes "ifdef Q"))) ∷ on_line 18 Undo ∷ on_line 19 (Apply (ChangeValue (One None) (codes "$(X)") (edits.Add (codes "=")))) ∷ tried_on 20 (SetRecipe None (codes "${c}") (ByNumber 2) (codes "define")) ∷ on_line 21 Begin ∷ [], ends (Refused 4) (codes "5: refused 5 Ambiguous 2\n9: refused 1 BadArgument word\n16: refused 1 BadArgument word\n19: refused 1 BadArgument name\n") (Some (codes "c: ; true\nX\\\n?= \\\n \\\n b\\\n -O2\nF?= a\\ \nc: a\n\tx \\ y"))) ∷  -- alternatives-283
    (false, 100, codes ".RECIPEPREFIX = >\r\nifdef A\noverride::=$(A -g) \\\n    -g |\\\n\\\n$(w \\\n a)\nendif", tried_on 1 (ChangeValue (One None) (codes "override") (edits.Set (codes "-include2"))) ∷ on_line 2 (Apply (ChangeValue (One None) (codes "override") (edits.Remove (codes "-include2")))) ∷ on_line 3 (Apply (AddLine (BeforeVar None (codes "override")) (NewAssign (codes "endef") Recursive []))) ∷ [], ends Done [] (Some (codes ".RECIPEPREFIX = >\r\nifdef A\nendef =\r\noverride::=\nendif"))) ∷  -- alternatives-284
    (true, 100, codes "F+= \\\r\n a =\\\n\\\na\\$ -g# c\nF = -g -g\n.RECIPEPREFIX = \nF =-O2#-g\n", on_line 1 (Apply (AddLine (AfterVar (Some 3) (codes "F")) (NewAssign (codes "define") Immediate []))) ∷ on_line 2 End ∷ tried_on 3 (ChangeValue (One (Some 1)) (codes "F") (edits.Remove (codes "-g"))) ∷ on_line 4 (Apply (ChangeValue (One (Some 2)) (codes "F") (edits.Remove (codes "-g")))) ∷ on_line 5 Undo ∷ on_line 6 (Apply (RemoveLines (OfAssign (Some 0) (codes "X")))) ∷ Chain (edit_on 7 (ChangeValue (One None) (codes "define") (edits.Remove (codes "$(A -g)")))) (edit_on 8 (AddRecipe None (codes "d") (At 1) (codes "a"))) ((edit_on 10 (RemoveLines (OfAssign None (codes "override")))) ∷ (edit_on 11 (ChangeValue (One (Some 3)) (codes "F") (edits.Add (codes "\\\\a")))) ∷ []) ∷ tried_on 12 (ChangeValue (One (Some 3)) (codes "F") (edits.Add (codes "-O2"))) ∷ on_line 13 (Apply (ChangeValue (One (Some 2)) (codes "F") (edits.Append (codes "a&b")))) ∷ [], ends (Refused 2) (codes "2: refused 19 NoGroup\n6: refused 4 NoSuch\n") (Some (codes "F+= \\\r\n a =\\\n\\\na\\$ -g# c\nF = -g -g a&b\n.RECIPEPREFIX = \nF =-O2#-g\ndefine :::=\r\n"))) ∷  -- alternatives-285
    (false, 100, codes "d: a | b\n\ta\n\t\ttrue\n\tt\noverride \\\r\n +=\\\n\nc c: a | b\n\ttrue\n\t# n\n\ttrue\n", on_line 1 Begin ∷ on_line 2 (Apply (AddRecipe None (codes "d") (At 2) [])) ∷ on_line 3 Begin ∷ tried_on 4 (AddRecipe (Some 4294967295) (codes "d") (At 1) (codes "t")) ∷ tried_on 5 (ChangeValue Every (codes "F") (edits.Remove (codes ";"))) ∷ [], ends (Refused 1) (codes "3: refused 18 GroupOpen\n") None) ∷  -- alternatives-286
    (true, 100, codes "c: a\r\n\ttrue\nifdef A\nF= \\\r\n $(a b) x=1 \\\r\n =\\\n\\\n\nelse\noverride =\\ b\\\n\tb x=1\t#\nendif\nF = ; a # \\\n d", tried_on 1 (ChangeValue (One None) (codes "override") (edits.Remove (codes "${c}"))) ∷ on_line 2 Undo ∷ on_line 3 Undo ∷ on_line 4 (Apply (ChangeValue (One (Some 1)) (codes "F") (edits.Add (codes "-g")))) ∷ on_line 5 (Apply (ChangeValue (One (Some 1)) (codes "F") (edits.Append []))) ∷ [], ends (Refused 3) (codes "2: refused 16 NothingToUndo\n3: refused 16 NothingToUndo\n5: refused 1 BadArgument value\n") (Some (codes "c: a\r\n\ttrue\nifdef A\nF= \\\r\n $(a b) x=1 \\\r\n = -g\\\n\\\n\nelse\noverride =\\ b\\\n\tb x=1\t#\nendif\nF = ; a # \\\n d"))) ∷  -- alternatives-287
    (false, 100, codes "F\\\n=-O2 -g -g ;\\\n\\\n-g\noverride!= a#-g\nF\\\n=-g \\\n    x=1 -O2\na.b\\\n!= =\\\n", on_line 1 (Apply (ChangeValue Every (codes "F") (edits.Remove (codes "-g")))) ∷ tried_on 2 (ChangeValue (One (Some 2)) (codes "F") (edits.Append [])) ∷ on_line 3 (Apply (ChangeValue (One None) (codes "F") (edits.Add (codes "=")))) ∷ tried_on 4 (ChangeValue (One (Some 2)) (codes "override") (edits.Append (codes "$x $(w a)"))) ∷ on_line 5 Undo ∷ on_line 6 (Apply (ChangeValue Every (codes "F") (edits.Append []))) ∷ tried_on 7 (ChangeValue Every (codes "F") (edits.Add (codes "-g"))) ∷ [], ends (Refused 1) (codes "2: refused 1 BadArgument value\n") None) ∷  -- alternatives-288
    (true, 100, codes "d: # c\n>x \\ y\n>a\\\\\n>a\n", on_line 1 End ∷ on_line 2 Undo ∷ on_line 3 (Apply (ChangeValue Every (codes "F") (edits.Remove (codes "-g")))) ∷ [], ends (Refused 3) (codes "1: refused 19 NoGroup\n2: refused 16 NothingToUndo\n3: refused 4 NoSuch\n") (Some (codes "d: # c\n>x \\ y\n>a\\\\\n>a\n"))) ∷  -- alternatives-289
    (false, 100, codes ".RECIPEPREFIX = >\nd:\n\t a\n\t\ttrue\nifdef A\nF ::= a \\\n \\\n -g -O2 ;\nelse\nF ::= \nendif\n", on_line 1 (Apply (RemoveLines (OfRecipe None (codes "d") (ByText (codes "x \\ y"))))) ∷ on_line 2 (Apply (ChangeValue Every (codes "F") (edits.Add (codes "-O2")))) ∷ on_line 3 (Apply (ChangeValue Every (codes "F") (edits.Remove (codes "-O2")))) ∷ on_line 4 (Apply (RemoveLines (OfAssign (Some 1) (codes "F")))) ∷ on_line 5 (Apply (ChangeValue (One None) (codes "F") (edits.Set (codes "| $(s (b) a)")))) ∷ on_line 6 (Apply (ChangeValue (One None) (codes "F") (edits.Remove (codes "$(s (b) a)")))) ∷ on_line 7 (Apply (ChangeValue (One None) (codes "F") (edits.Remove (codes "|")))) ∷ [], ends (Refused 1) (codes "1: refused 6 Absent\n") None) ∷  -- alternatives-290
    (true, 100, codes "X\\\n= a\\$\\\nx=1\\\nb\nc: ;\n\tsay \"q\"\n\ttrue \\\r\n\ttrue\nifdef A\nF?=-g $(s (b) a)\nelse\nF ::= $\\ -g  a b \\\r\n b \nendif\nx.o: ; true\n\t# n\n\ttrue\n # n\n :a.b :=$ \n", Chain (edit_on 1 (RemoveLines (OfRecipe None (codes "c") (ByText (codes "say \"q\""))))) (edit_on 3 (ChangeValue (One (Some 1)) (codes "F") (edits.Add (codes "a:b")))) ((edit_on 4 (RemoveLines (OfAssign None (codes "F")))) ∷ []) ∷ Chain (edit_on 5 (ChangeValue (One (Some 1)) (codes "F") (edits.Remove (codes "a")))) (edit_on 7 (SetRecipe None (codes "x.o") (ByText (codes "# n")) (codes "true"))) [] ∷ on_line 8 (Apply (ChangeValue (One None) (codes "X") (edits.Remove (codes "a\\$ x=1")))) ∷ on_line 9 Begin ∷ Chain (edit_on 10 (AddRecipe None (codes "c") (At 2) (codes " a"))) (edit_on 12 (ChangeValue (One (Some 1)) (codes "F") (edits.Append []))) [] ∷ [], ends Done [] (Some (codes "X\\\n= b\nc: ;\n\ttrue \\\r\n\ttrue\n\t a\nifdef A\nF?=-g $(s (b) a)\nelse\nF ::= $\\ -g  a b \\\r\n b \nendif\nx.o: ; true\n\t# n\n\ttrue\n # n\n :a.b :=$ \n"))) ∷  -- alternatives-291
    (false, 100, codes "d: a\nc: a\n\ttrue\n\ttrue\n\tx \\ y\ninclude::\nifeq (a,b)\n\ttrue\n\n\ta", on_line 1 (Apply (RemoveLines (OfRecipe None (codes "include") (ByText (codes "a"))))) ∷ on_line 2 (Apply (SetRecipe None (codes "d") (ByText (codes "true")) (codes "true"))) ∷ on_line 3 (Apply (AddRecipe None (codes "d") (At 1) [])) ∷ tried_on 4 (AddRecipe None (codes "d") (At 3) (codes "a\\\\")) ∷ on_line 5 (Apply (ChangeValue (One None) (codes "a.b") (edits.Append []))) ∷ on_line 6 (Apply (AddRecipe None (codes "include") (At 1) (codes "b"))) ∷ on_line 7 (Apply (AddRecipe None (codes "include") (At 3) (codes " a"))) ∷ tried_on 8 (ChangeValue Every (codes "X") (edits.Set (codes ";"))) ∷ on_line 9 (Apply (RemoveLines (OfAssign None (codes "F")))) ∷ [], ends (Refused 1) (codes "1: refused 2 Reserved\n") None) ∷  -- alternatives-292
    (true, 100, codes ".RECIPEPREFIX = >\nF =\\\n\\\n=# a \\\\\nF := -g -g#-g\nc: ; true\n\ttrue\nd: ;\n", on_line 1 (Apply (ChangeValue (One (Some 1)) (codes "F") (edits.Remove (codes "=")))) ∷ tried_on 2 (ChangeValue (One (Some 2)) (codes "F") (edits.Remove (codes "-g"))) ∷ tried_on 3 (ChangeValue Every (codes "X") (edits.Set (codes "a a"))) ∷ on_line 4 (Apply (ChangeValue Every (codes "F") (edits.Add (codes "$\\x")))) ∷ on_line 5 (Apply (ChangeValue (One (Some 1)) (codes "F") (edits.Add (codes "-g")))) ∷ tried_on 6 (ChangeValue (One (Some 2)) (codes "F") (edits.Append (codes "-O2"))) ∷ on_line 7 (Apply (RemoveLines (OfAssign (Some 1) (codes "F")))) ∷ [], ends Done [] (Some (codes ".RECIPEPREFIX = >\nF := $\\x -O2#-g\nc: ; true\n\ttrue\nd: ;\n"))) ∷  -- alternatives-293
    (false, 100, codes "ifdef A\r\noverride= $\\\r\n a x=1\r\nendif\r\n", on_line 1 (Apply (ChangeValue (One (Some 0)) (codes "override") (edits.Remove (codes "$ a")))) ∷ on_line 2 (Apply (ChangeValue Every (codes "override") (edits.Add (codes "$(w a)")))) ∷ on_line 3 (Apply (RemoveLines (OfAssign None (codes "override")))) ∷ tried_on 4 (AddRecipe (Some 0) (codes "d") (At 1) (codes "a")) ∷ tried_on 5 (ChangeValue Every (codes "+") (edits.Remove (codes "="))) ∷ tried_on 6 (AddLine (BeforeVar None (codes "X")) (NewAssign (codes "A") Recursive (codes "c"))) ∷ [], ends (Refused 1) (codes "1: refused 4 NoSuch\n") None) ∷  -- alternatives-294
    (true, 100, codes "F := b# \\\n d\nc: ; true\n\trm -f x\nifdef A\noverride F = | -g -g \nendif", Chain (edit_on 3 (ChangeValue (One (Some 1)) (codes "F") (edits.Add (codes "b")))) (edit_on 5 (AddRecipe None (codes "c") (At 2) (codes "\ttrue"))) ((edit_on 6 (ChangeValue (One (Some 2)) (codes "F") (edits.Remove (codes "-g")))) ∷ []) ∷ on_line 7 (Apply (AddRecipe None (codes "c") (At 2) (codes "rm -f x"))) ∷ on_line 8 End ∷ on_line 9 (Apply (ChangeValue (One (Some 1)) (codes "F") (edits.Set (codes "$$")))) ∷ Chain (edit_on 10 (SetRecipe None (codes "c") (ByText (codes "rm -f x")) (codes " a"))) (edit_on 12 (RemoveLines (OfAssign (Some 4294967295) (codes "X")))) ((edit_on 14 (SetRecipe None (codes "c") (ByText (codes "rm -f x")) (codes "a"))) ∷ []) ∷ on_line 15 (Apply (RemoveLines (OfRule None (codes "c")))) ∷ tried_on 16 (ChangeValue (One (Some 2)) (codes "F") (edits.Add (codes "|"))) ∷ on_line 17 (Apply (ChangeValue (One (Some 2)) (codes "F") (edits.Set (codes "-include2")))) ∷ [], ends (Refused 2) (codes "8: refused 19 NoGroup\n10: refused 5 Ambiguous 2\n") (Some (codes "F := $$# \\\n d\nifdef A\noverride F = -include2 \nendif"))) ∷  -- alternatives-295
    (false, 100, codes "ifdef A\r\nF?= ; \\\r\na$\\ a \\\r\n    -g\r\nelse\r\nX = -g\\\r\n\\\r\n-g a -g -O2#\r\nendif\r\n", on_line 1 (Apply (ChangeValue (One None) (codes "X") (edits.Remove (codes "a:b")))) ∷ tried_on 2 (ChangeValue (One (Some 1)) (codes "X") (edits.Add (codes "a"))) ∷ [], ends (Refused 1) (codes "1: refused 6 Absent\n") None) ∷  -- alternatives-296
    (true, 100, codes "override F = b\tb  -O2\nc: ; true\n # n\n\ttrue\n\trm -rf x\nX =\\\n\t-g b ", on_line 1 (Apply (ChangeValue (One None) (codes "F") (edits.Remove (codes "b")))) ∷ on_line 2 (Apply (ChangeValue (One None) (codes "F") (edits.Remove (codes "-O2")))) ∷ on_line 3 (Apply (ChangeValue (One None) (codes "X") (edits.Add (codes "-O2")))) ∷ on_line 4 Undo ∷ [], ends Done [] (Some (codes "override F = \nc: ; true\n # n\n\ttrue\n\trm -rf x\nX =\\\n\t-g b "))) ∷  -- alternatives-297
    (false, 100, codes "c:\r\n\ttrue\r\n\ttrue\r\nifeq (a,b)\r\n\trm -rf x\r\na.b :=\t; #-g\r\noverride\\\r\n!=b ${v a\\\r\n\ta #\r\nF = b\r\n.RECIPEPREFIX = >\r\n", tried_on 1 (ChangeValue (One None) (codes "a.b") (edits.Append [])) ∷ on_line 2 (Apply (RemoveLines (OfAssign None (codes "F")))) ∷ Chain (edit_on 3 (RemoveLines (OfRecipe None (codes "c") (ByText (codes "true"))))) (edit_on 5 (ChangeValue (One (Some 1)) (codes "F") (edits.Remove (codes "b")))) [] ∷ on_line 6 (Apply (ChangeValue (One None) (codes "override") (edits.Set (codes "$ b a")))) ∷ tried_on 7 (ChangeValue Every (codes "a.b") (edits.Append (codes "a -g"))) ∷ on_line 8 (Apply (ChangeValue (One None) (codes "override") (edits.Set (codes "b $x")))) ∷ [], ends (Refused 1) (codes "1: refused 1 BadArgument value\n") None) ∷  -- alternatives-298
    (false, 100, codes "F:= -g\\\n-O2 \n\t#c \\\n d\nX\\\n= -O2  x=1 a -g# c\nF= = -g\n", tried_on 1 (AddLine Bottom (NewRule (codes "x.o") Single [])) ∷ on_line 2 (Apply (ChangeValue (One None) (codes "X") (edits.Remove (codes "x=1")))) ∷ on_line 3 (Apply (RemoveLines (OfRule None (codes "x.o")))) ∷ [], ends Done [] (Some (codes "F:= -g\\\n-O2 \n\t#c \\\n d\nX\\\n= -O2 a -g# c\nF= = -g\n"))) ∷  -- alternatives-299
    (true, 100, codes ".RECIPEPREFIX = >\nifdef A\nF!= = $(s (b) a)\nelse\nX\\\n::= -g ; \\\r\n x$(a  b)# c\nendif\\", Chain (edit_on 1 (ChangeValue (One (Some 0)) (codes "X") (edits.Remove (codes "-O2")))) (edit_on 3 (ChangeValue (One (Some 4294967295)) (codes "F") (edits.Append (codes "$(A -g)")))) ((edit_on 5 (AddLine (BeforeVar (Some 2) (codes "X")) (NewAssign (codes "Y") Conditional (codes "= .PHONY")))) ∷ []) ∷ [], ends (Refused 1) (codes "5: refused 4 NoSuch\n") (Some (codes ".RECIPEPREFIX = >\nifdef A\nF!= = $(s (b) a)\nelse\nX\\\n::= -g ; \\\r\n x$(a  b)# c\nendif\\"))) ∷  -- alternatives-300
    (false, 100, codes "F ?=-g \\\r\n -O2\r\nc: ;\r\n\tb\r\n\tx \\ y\r\nF !=-O2 $(a\tb)\\\r\na:b a\\ \\\r\n\\\r\na #\r\nX ::=a\\\r\n -O2\r\nF ::= b \\\r\n #-g", on_line 1 (Apply (AddRecipe None (codes "c") (At 0) (codes "rm -f x"))) ∷ on_line 2 Redo ∷ on_line 3 (Apply (RemoveLines (OfRecipe (Some 4294967295) (codes "c") (ByText (codes "a # b"))))) ∷ on_line 4 (Apply (ChangeValue (One (Some 2)) (codes "F") (edits.Add (codes "$\\x")))) ∷ Chain (edit_on 5 (RemoveLines (OfAssign None (codes "override")))) (edit_on 7 (ChangeValue (One (Some 2)) (codes "F") (edits.Remove (codes "b")))) [] ∷ on_line 8 (Apply (SetRecipe (Some 0) (codes "c") (ByText (codes "ifdef Q")) (codes "true"))) ∷ [], ends (Refused 1) (codes "1: refused 6 Absent\n") None) ∷  -- alternatives-301
    (true, 100, codes "X\\\n::= ; -O2 \\\n-g \\\r\n Ã© ", on_line 1 (Apply (ChangeValue Every (codes "Y!") (edits.Add (codes "|")))) ∷ on_line 2 (Apply (ChangeValue (One None) (codes "X") (edits.Remove (codes "Ã©")))) ∷ on_line 3 (Apply (ChangeValue (One (Some 2)) (codes "F") (edits.Set (codes "$(s (b) a)")))) ∷ on_line 4 (Apply (ChangeValue (One None) (codes "F") (edits.Append (codes "$(w a) ;")))) ∷ on_line 5 (Apply (ChangeValue Every (codes "X") (edits.Add (codes ";")))) ∷ on_line 6 (Apply (ChangeValue (One (Some 2)) (codes "F") (edits.Append []))) ∷ on_line 7 (Apply (ChangeValue Every (codes "F") (edits.Append (codes "a$ b")))) ∷ on_line 8 (Apply (ChangeValue (One None) (codes "override") (edits.Set []))) ∷ [], ends (Refused 7) (codes "1: refused 1 BadArgument name\n3: refused 4 NoSuch\n4: refused 4 NoSuch\n5: refused 7 Already\n6: refused 1 BadArgument value\n7: refused 4 NoSuch\n8: refused 4 NoSuch\n") (Some (codes "X\\\n::= ; -O2 \\\n-g "))) ∷  -- alternatives-302
    (true, 100, codes "override F = $$ ${c} \\\na$  \\\n    a$\\ \\\n \\\n $#\n", on_line 1 (Apply (ChangeValue (One (Some 0)) (codes "a.b") (edits.Remove (codes "-g")))) ∷ Chain (edit_on 2 (AddRecipe (Some 4294967295) (codes "c") (At 1) (codes "b"))) (edit_on 4 (ChangeValue (One None) (codes "F") (edits.Append (codes "b")))) ((edit_on 5 (AddLine Bottom (NewAssign (codes "Y") Immediate (codes "$(a b)")))) ∷ []) ∷ Chain (edit_on 6 (ChangeValue (One None) (codes "F") (edits.Add (codes "a")))) (edit_on 8 (ChangeValue Every (codes "Y") (edits.Append (codes "a $x")))) [] ∷ [], ends (Refused 1) (codes "1: refused 4 NoSuch\n") (Some (codes "override F = $$ ${c} \\\na$  \\\n    a$\\ \\\n \\\n $#\nY :::= $(a b) a $x\n"))) ∷  -- alternatives-303
    (false, 100, codes "c:: a | b\n\ty\r\n\ttrue\n\tb\nendef\r\\\n\0$\nF ?= -g ; \\\n \\\n a:b#", tried_on 1 (ChangeValue (One None) (codes "F") (edits.Append (codes "-O2"))) ∷ on_line 2 (Apply (RemoveLines (OfRecipe (Some 1) (codes "c") (ByText (codes "y"))))) ∷ Chain (edit_on 3 (ChangeValue (One (Some 1)) (codes "X") (edits.Remove (codes "-g")))) (edit_on 4 (RemoveLines (OfRecipe None (codes "c") (ByText (codes "true"))))) [] ∷ [], ends Done [] (Some (codes "c:: a | b\n\tb\nendef\r\\\n\0$\nF ?= -g ; \\\n \\\n a:b -O2#"))) ∷  -- alternatives-304
    (true, 100, codes "%.o: # c\n\tsay \"q\"\n \n ", on_line 1 (Apply (ChangeValue Every (codes "F") (edits.Remove (codes "-g")))) ∷ on_line 2 (Apply (AddRecipe None (codes "%.o") (At 1) (codes "a # b"))) ∷ on_line 3 (Apply (SetRecipe None (codes "%.o") (ByText (codes "say \"q\"")) (codes "rm -f x"))) ∷ on_line 4 Undo ∷ Chain (edit_on 5 (RemoveLines (OfAssign None (codes "override")))) (edit_on 6 (ChangeValue (One (Some 1)) (codes "X") (edits.Add (codes "-g")))) ((edit_on 7 (SetRecipe None (codes "%.o") (ByText (codes "say \"q\"")) (codes "\ttrue"))) ∷ []) ∷ on_line 8 (Apply (SetRecipe None (codes "%.o") (ByText (codes "\ttrue")) (codes "a # b"))) ∷ on_line 9 (Apply (AddLine Bottom (NewAssign (codes "a.b") Simple (codes "$(s\\)")))) ∷ [], ends (Refused 1) (codes "1: refused 4 NoSuch\n") (Some (codes "%.o: # c\n\ta # b\n\ta # b\n \n \na.b := $(s\\)\n"))) ∷  -- alternatives-305
    []

answers_6 : map (λ row. came_to row.0 row.1 row.2 row.3) rows_6 ≡ map (λ row. row.4) rows_6
unfolding digits
answers_6 = refl

abbrev rows_7 : List (Bool × ℕ × List ℕ × List Step × RunResult)
rows_7 =
    (false, 100, codes "X\\\r\n::= a:b \r\nd&:# c\r\n\t\\\r\n\r\n\tb\r\n\tx \\{y\r\nc: # c\r\n\ta\r\n\trm -f x\r\n\trm -rf x", on_line 1 (Apply (ChangeValue (One (Some 1)) (codes "X") (edits.Remove (codes "a:b")))) ∷ Chain (edit_on 2 (ChangeValue (One None) (codes "X") (edits.Remove (codes "$(s (b) a)")))) (edit_on 4 (ChangePrereqs None (codes "d") (RemovePrereq (codes "$(f {)")))) ((edit_on 5 (AddRecipe (Some 0) (codes "c") (At 1) (codes "t"))) ∷ (edit_on 6 (SetRecipe None (codes "d") (ByText (codes "b")) [])) ∷ []) ∷ on_line 7 (Apply (RemoveLines (OfRecipe (Some 4294967295) (codes "d") (ByText (codes "ifdef Q"))))) ∷ on_line 8 (Apply (RemoveLines (OfAssign None (codes "F")))) ∷ on_line 9 (Apply (ChangeValue (One None) (codes "X") (edits.Remove (codes "-g")))) ∷ [], ends (Refused 1) (codes "7: refused 4 NoSuch\n") None) ∷  -- alternatives-306
    (true, 100, codes "c: ;\nX = a$\\\\\n-g\\\n\\\n-O2  x$(a  b)\n.RECIPEPREFIX = >\n", tried_on 1 (ChangeValue (One None) (codes "override") (edits.Set (codes "$(A -g)"))) ∷ on_line 3 Begin ∷ on_line 4 (Apply (ChangeValue Every (codes "X") (edits.Set (codes "$(A -g)")))) ∷ on_line 5 (Apply (ChangeValue (One None) (codes "X") (edits.Remove (codes "$(A -g)")))) ∷ tried_on 6 (ChangeValue (One (Some 1)) (codes "F") (edits.Set (codes "2"))) ∷ on_line 7 (Apply (AddLine (BeforeRule None (codes "c")) (NewAssign (codes "ifdef") Recursive []))) ∷ [], ends Done [] (Some (codes "ifdef =\nc: ;\nX = \n-g\\\n\\\n-O2  x$(a  b)\n.RECIPEPREFIX = >\n"))) ∷  -- alternatives-307
    (false, 100, codes "F =b a\r\nc:: ; true\r\n>y\r\n>true\r\nX!= $# b | \\\r\n    ;\r\nF != # c\r\nc: # c\r\n\tb\r\n\tb\r\n# \\\r\n n\r\n", Chain (edit_on 1 (RemoveLines (OfAssign (Some 0) (codes "X")))) (edit_on 2 (RemoveLines (OfAssign None (codes "a.b")))) ((edit_on 3 (ChangeValue (One (Some 2)) (codes "F") (edits.Remove (codes "\\#")))) ∷ (edit_on 4 (AddRecipe None (codes "c") Last (codes "$("))) ∷ []) ∷ on_line 5 Undo ∷ on_line 6 (Apply (ChangeValue (One (Some 2)) (codes "F") (edits.Set (codes "b a")))) ∷ on_line 7 (Apply (ChangeValue Every (codes "F") (edits.Add (codes "a")))) ∷ on_line 8 (Apply (ChangeValue (One (Some 0)) (codes "X") (edits.Remove (codes "b")))) ∷ on_line 9 (Apply (RemoveLines (OfAssign (Some 4294967295) (codes "a.b")))) ∷ [], ends (Refused 1) (codes "5: refused 16 NothingToUndo\n") None) ∷  -- alternatives-308
    (true, 100, codes ".RECIPEPREFIX = >\nF != b -g  ;\n", on_line 1 (Apply (ChangeValue (One None) (codes "F") (edits.Remove (codes "b")))) ∷ tried_on 2 (ChangeValue (One (Some 4294967295)) (codes "F") (edits.Remove (codes "-g"))) ∷ on_line 3 (Apply (AddLine Bottom (NewRule (codes "$(f {) b") Single (codes "$(p #)")))) ∷ on_line 4 (Apply (ChangeValue Every (codes "F") (edits.Remove (codes "-g")))) ∷ on_line 5 Undo ∷ on_line 6 Undo ∷ on_line 7 (Apply (ChangeValue Every (codes "F") (edits.Add (codes "$(t -g)")))) ∷ [], ends Done [] (Some (codes ".RECIPEPREFIX = >\nF != -g  ; $(t -g)\n"))) ∷  -- alternatives-309
    (false, 100, codes "c c: ; true\noverride\\\n= =# a \\\\\nX!= =\\\n; a -g |", on_line 1 (Apply (AddRecipe None (codes "c") (At 1) (codes "true"))) ∷ tried_on 2 (ChangeValue (One None) (codes "F") (edits.Add (codes "a\\ b"))) ∷ on_line 3 (Apply (ChangeValue (One None) (codes "override") (edits.Add (codes "a$ b")))) ∷ on_line 4 (Apply (AddLine Bottom (NewRule (codes "foo") Single (codes "$$ $$")))) ∷ on_line 5 (Apply (ChangeValue Every (codes "F") (edits.Remove (codes "-g")))) ∷ [], ends (Refused 1) (codes "5: refused 4 NoSuch\n") None) ∷  -- alternatives-310
    (true, 100, codes "d: ; true\nelse\n\tt\n\ty\r\n%.c ::$(q:;=|)\t$(f {) d|\nF = |\\\n a $\\ =#-g\nF = | b\\\n\t-g\t-g\\\nx=1\nc: ; true\n>x \\ y\n>true\noverride +=  $  -O2 a:b -O2 a\\$\n", on_line 1 (Apply (AddLine (BeforeRule (Some 1) (codes "c")) (NewRule (codes "$$ $(f {)") Single []))) ∷ on_line 2 (Apply (ChangeValue (One (Some 2)) (codes "F") (edits.Remove (codes "-g")))) ∷ [], ends Done [] (Some (codes "d: ; true\nelse\n\tt\n\ty\r\n%.c ::$(q:;=|)\t$(f {) d|\nF = |\\\n a $\\ =#-g\nF = | b\\\nx=1\n$$ $(f {):\nc: ; true\n>x \\ y\n>true\noverride +=  $  -O2 a:b -O2 a\\$\n"))) ∷  -- alternatives-311
    (true, 100, codes "ifdef A\nF= -g\t$(a b)\\\n\\\n=# \\\n d\nelse\nF != \\\\#-g\nendif\nc: # c\n\t\nifeq (a,b)\n\ta\\\n>b\nifdef A\na.b+=; \\\n \\\n -g \\\n$$\\\n-O2# a \\\\\nelse\nF\\\n=\tx=1 $(s (b) a) x$(a  b)\nendif\nc: a\n \n\t\nX+=\\\n$(s (b) a) b# a \\\\\n", on_line 1 (Apply (AddLine Bottom (NewAssign (codes "define") Recursive (codes "a&b")))) ∷ on_line 2 (Apply (ChangeValue (One (Some 1)) (codes "F") (edits.Add (codes "\\#")))) ∷ on_line 3 (Apply (RemoveLines (OfAssign None (codes "a.b")))) ∷ Chain (edit_on 4 (RemoveLines (OfAssign (Some 4294967295) (codes "F")))) (edit_on 6 (ChangeValue Every (codes "define") (edits.Remove (codes "-O2")))) ((edit_on 7 (ChangeValue (One None) (codes "F") (edits.Add (codes "=")))) ∷ []) ∷ [], ends Done [] (Some (codes "ifdef A\nF= -g\t$(a b)\\\n\\\n= \\## \\\n d\nelse\nF != \\\\#-g\nendif\nc: # c\n\t\nifeq (a,b)\n\ta\\\n>b\nifdef A\nelse\nF\\\n=\tx=1 $(s (b) a) x$(a  b)\nendif\nc: a\n \n\t\nX+=\\\n$(s (b) a) b# a \\\\\ndefine = a&b\n"))) ∷  -- alternatives-312
    (false, 100, codes "override F\\\n= =#\nd: ;\n>true\nF= -O2\t# a \\\\", on_line 1 (Apply (ChangeValue (One None) (codes "X") (edits.Add (codes "-g")))) ∷ tried_on 2 (ChangeValue (One None) (codes "a.b") (edits.Append (codes "$(w a)"))) ∷ on_line 3 Redo ∷ Chain (edit_on 4 (AddRecipe (Some 0) (codes "d") (At 1) (codes "t"))) (edit_on 6 (RemoveLines (OfRecipe None (codes "d") (ByText (codes " a"))))) ((edit_on 7 (RemoveLines (OfAssign None (codes "override")))) ∷ (edit_on 9 (ChangeValue (One (Some 1)) (codes "F") (edits.Append (codes "x.o")))) ∷ []) ∷ on_line 10 (Apply (ChangeValue Every (codes "F") (edits.Remove (codes "=")))) ∷ Chain (edit_on 12 (ChangeValue Every (codes "F") (edits.Append (codes "x=1")))) (edit_on 13 (RemoveLines (OfRecipe None (codes "d") (ByText (codes "true"))))) [] ∷ [], ends (Refused 1) (codes "1: refused 4 NoSuch\n") None) ∷  -- alternatives-313
    (true, 100, codes "F = b \\\r\n \\\n -g\\\n\t-g \\\n \\\n a\na.b\\\n::=\\\n; a a -g\n", Chain (edit_on 1 (AddLine (AfterVar None (codes "F")) (NewRule (codes "$(f {)") Single []))) (edit_on 2 (ChangeValue (One None) (codes "F") (edits.Add (codes "-g")))) ((edit_on 4 (ChangeValue (One None) (codes "a.b") (edits.Remove (codes "a")))) ∷ []) ∷ tried_on 5 (ChangeValue (One (Some 1)) (codes "override") (edits.Add (codes "$ b"))) ∷ on_line 6 (Apply (ChangeValue Every (codes "F") (edits.Remove (codes "a")))) ∷ on_line 7 (Apply (RenameTarget (codes "$(f {)") (codes "$x"))) ∷ on_line 8 Begin ∷ [], ends Done [] (Some (codes "F = b \\\r\n \\\n -g\\\n\t-g\n$x:\r\na.b\\\n::=\\\n; a a -g\n"))) ∷  -- alternatives-314
    (false, 100, codes "F = =\ta\\\n\\\n-O2 \\\n    defiex=1  b# c\na.b= \n", on_line 1 (Apply (ChangeValue (One None) (codes "a.b") (edits.Set []))) ∷ on_line 2 (Apply (ChangeValue (One None) (codes "F") (edits.Remove (codes "-O2")))) ∷ tried_on 3 (ChangeValue (One (Some 2)) (codes "a.b") (edits.Remove (codes "$(A -g)"))) ∷ on_line 4 (Apply (ChangeValue Every (codes "F") (edits.Remove (codes "b")))) ∷ on_line 5 (Apply (RemoveLines (OfAssign None (codes "a.b")))) ∷ tried_on 6 (ChangeValue (One None) (codes "X") (edits.Append (codes "a"))) ∷ on_line 7 (Apply (ChangeValue Every (codes "F") (edits.Append (codes "$(a b)")))) ∷ on_line 8 (Apply (ChangeValue (One None) (codes "F") (edits.Add (codes "-O2")))) ∷ [], ends Done [] (Some (codes "F = =\ta \\\n    defiex=1 $(a b) -O2# c\n"))) ∷  -- alternatives-315
    (false, 100, codes "c: a\r\nc: # c\r\n # n\r\n", Chain (edit_on 1 (SetRecipe (Some 1) (codes "c") (ByText (codes "ifdef Q")) (codes "\ttrue"))) (edit_on 2 (RemoveLines (OfRecipe None (codes "c") (ByText (codes "true"))))) [] ∷ tried_on 3 (ChangeValue Every (codes "F") (edits.Remove (codes "-g"))) ∷ tried_on 4 (AddRecipe (Some 1) (codes "c") (At 4294967295) (codes "true")) ∷ on_line 5 (Apply (RemoveLines (OfRecipe (Some 2) (codes "c") (ByText (codes " a"))))) ∷ on_line 6 Begin ∷ tried_on 7 (ChangeValue Every (codes "F") (edits.Remove (codes "-g"))) ∷ on_line 8 (Apply (AddRecipe (Some 1) (codes "c") (At 1) (codes ">a"))) ∷ Chain (edit_on 9 (ChangeValue (One (Some 4294967295)) (codes "a.b") (edits.Remove (codes "b")))) (edit_on 11 (ChangeValue (One None) (codes "a.b") (edits.Append (codes "b a:b")))) ((edit_on 13 (SetRecipe (Some 1) (codes "c") (ByNumber 1) (codes "y # z"))) ∷ []) ∷ on_line 14 (Apply (SetRecipe None (codes "include") (ByText (codes "a # b")) (codes "ifdef Q"))) ∷ [], ends (Refused 1) (codes "5: refused 6 Absent\n") None) ∷  -- alternatives-316
    (true, 100, codes "ifdef A\r\noverride= b \\\r\n ; a a#\r\nelse\r\na.b= $(s (b) a) ; #-g\r\nendif\r\nF?= a\\\r\n\t-g# \\\r\n d\r\nc: ;\r\n\tt\r\n\trm -rf x\r\n\t\ttrue\r\n\tx \\ y\r\n : override ?= \r\n%.o: a\r\n", tried_on 1 (ChangeValue (One None) (codes "F") (edits.Remove (codes "a"))) ∷ on_line 2 (Apply (ChangeValue Every (codes "override") (edits.Add (codes "x$(a  b)")))) ∷ on_line 3 (Apply (AddRecipe None (codes "c") (At 5) (codes ">a"))) ∷ on_line 4 (Apply (AddRecipe None (codes "c") (At 3) (codes "t"))) ∷ Chain (edit_on 5 (AddRecipe (Some 0) (codes "c") (At 1) (codes "rm -f x"))) (edit_on 6 (ChangeValue (One (Some 4294967295)) (codes "F") (edits.Remove (codes "-g")))) ((edit_on 8 (RemoveLines (OfRecipe None (codes "%.o") (ByText (codes "rm -f x"))))) ∷ []) ∷ on_line 9 (Apply (RemoveLines (OfRecipe (Some 0) (codes "%.o") (ByText (codes "true"))))) ∷ [], ends (Refused 1) (codes "9: refused 4 NoSuch\n") (Some (codes "ifdef A\r\noverride= b \\\r\n ; a a x$(a  b)#\r\nelse\r\na.b= $(s (b) a) ; #-g\r\nendif\r\nF?= -g# \\\r\n d\r\nc: ;\r\n\tt\r\n\trm -rf x\r\n\tt\r\n\t\ttrue\r\n\tx \\ y\r\n\t>a\r\n : override ?= \r\n%.o: a\r\n"))) ∷  -- alternatives-317
    (false, 100, codes ".RECIPEPREFIX = >\nF\\\n= $(t \\\n -g) \\\n-g\n", Chain (edit_on 1 (ChangePrereqs (Some 0) (codes "a&b") (AddPrereq false (codes "a")))) (edit_on 2 (ChangeValue (One None) (codes "F") (edits.Add (codes "-g")))) ((edit_on 4 (ChangeValue Every (codes "F") (edits.Remove (codes "$(t -g)")))) ∷ []) ∷ on_line 5 (Apply (ChangeValue (One (Some 2)) (codes "F") (edits.Remove (codes "-g")))) ∷ Chain (edit_on 6 (ChangeValue Every (codes "F") (edits.Add (codes "-g")))) (edit_on 8 (ChangeValue (One None) (codes "X") (edits.Set (codes "$(t -g)")))) ((edit_on 9 (ChangeValue (One None) (codes ".RECIPEPREFIX") (edits.Add (codes "x=1")))) ∷ []) ∷ on_line 10 Undo ∷ tried_on 11 (ChangeValue Every (codes "F") (edits.Add (codes "-g"))) ∷ [], ends (Refused 1) (codes "5: refused 4 NoSuch\n") None) ∷  -- alternatives-318
    (true, 100, codes "X= -g $\\\nF= a:b = x=1 ", on_line 1 Undo ∷ tried_on 2 (ChangeValue Every (codes "F") (edits.Add (codes "-g"))) ∷ on_line 3 Redo ∷ [], ends (Refused 2) (codes "1: refused 16 NothingToUndo\n3: refused 17 NothingToRedo\n") (Some (codes "X= -g $\\\nF= a:b = x=1 "))) ∷  -- alternatives-319
    (false, 100, codes "c: a\n\t\\\n\n\t>a\n\ta\\\n>b\n\t\n", on_line 1 (Apply (ChangeValue (One None) (codes "F") (edits.Set (codes "$(t -g)")))) ∷ on_line 2 (Apply (RemoveLines (OfAssign None (codes "F")))) ∷ on_line 3 (Apply (ChangeValue (One None) (codes "X") (edits.Append []))) ∷ tried_on 4 (AddRecipe None (codes "c") (At 4294967295) (codes "a")) ∷ tried_on 5 (RenameTarget (codes "a") (codes "${g(}")) ∷ on_line 6 (Apply (AddRecipe None (codes "c") (At 4) (codes "true"))) ∷ on_line 7 (Apply (RemoveLines (OfRule (Some 1) (codes "c")))) ∷ on_line 8 (Apply (ChangeValue Every (codes "override") (edits.Remove (codes "$x")))) ∷ tried_on 9 (ChangeValue (One None) (codes "override") (edits.Remove (codes ";"))) ∷ [], ends (Refused 1) (codes "1: refused 4 NoSuch\n") None) ∷  -- alternatives-320
    (true, 100, codes "define \n", tried_on 1 (RemoveLines (OfAssign None (codes "F"))) ∷ tried_on 2 (AddRecipe None (codes "c") (At 1) (codes "true")) ∷ on_line 3 (Apply (ChangeValue (One None) (codes "F") (edits.Remove (codes "$(a b)")))) ∷ on_line 4 (Apply (ChangeValue Every (codes "X$:") (edits.Add (codes "b")))) ∷ tried_on 5 (ChangeValue (One None) (codes "F") (edits.Remove (codes "a$ b"))) ∷ [], ends (Refused 2) (codes "3: refused 4 NoSuch\n4: refused 1 BadArgument name\n") (Some (codes "define \n"))) ∷  -- alternatives-321
    (true, 100, codes "c c: a | b\n\tt\n\tifdef Q\n\tifdef Q\nd: ;\n>say \"q\"\nifdef A\nF = -O2 b \\ b \nelse\nF =b |\\\n\\\n-g\\\n\tb # c\nendif\r", Chain (edit_on 1 (RemoveLines (OfAssign None (codes "override")))) (edit_on 3 (RemoveLines (OfAssign None (codes "a.b")))) ((edit_on 4 (AddLine Bottom (NewRule (codes "-include2") Single (codes "$(p #) $(a b)")))) ∷ (edit_on 6 (ChangeValue (One (Some 2)) (codes "F") (edits.Remove (codes "x$(a  b)")))) ∷ []) ∷ on_line 7 (Apply (ChangeValue (One (Some 1)) (codes "F") (edits.Add (codes "a")))) ∷ on_line 8 Undo ∷ Chain (edit_on 9 (SetRecipe None (codes "c") (ByText (codes "ifdef Q")) (codes "true"))) (edit_on 11 (RemoveLines (OfRecipe (Some 1) (codes "c") (ByText (codes "t"))))) [] ∷ on_line 12 (Apply (ChangeValue (One None) (codes "F") (edits.Append (codes "-g")))) ∷ [], ends (Refused 3) (codes "4: refused 12 OpenLine\n9: refused 5 Ambiguous 2\n12: refused 5 Ambiguous 2\n") (Some (codes "c c: a | b\n\tt\n\tifdef Q\n\tifdef Q\nd: ;\n>say \"q\"\nifdef A\nF = -O2 b \\ b \nelse\nF =b |\\\n\\\n-g\\\n\tb # c\nendif\r"))) ∷  -- alternatives-322
    (true, 100, codes "ifdef A\noverride != a a:b $(u \\\n    -g\nendif\nd: a | b\nifeq (a,b)\n>ifdef Q\n># n", on_line 1 (Apply (RemoveLines (OfRecipe (Some 0) (codes "d") (ByText (codes "b"))))) ∷ on_line 2 Begin ∷ on_line 3 (Apply (RemoveLines (OfAssign (Some 1) (codes "F")))) ∷ on_line 4 (Apply (ChangeValue Every (codes "override") (edits.Append (codes "-g")))) ∷ tried_on 5 (AddRecipe None (codes "c") (At 1) (codes "true")) ∷ on_line 6 (Apply (ChangeValue (One (Some 2)) (codes "override") (edits.Add (codes "=")))) ∷ Chain (edit_on 7 (ChangeValue Every (codes "F") (edits.Add (codes ";")))) (edit_on 9 (ChangeValue (One None) (codes "override") (edits.Set []))) [] ∷ on_line 10 (Apply (RemoveLines (OfAssign None (codes "F")))) ∷ [], ends (Refused 5) (codes "1: refused 4 NoSuch\n3: refused 4 NoSuch\n4: refused 11 OpenValue\n6: refused 4 NoSuch\n10: refused 4 NoSuch\n") (Some (codes "ifdef A\noverride != \nendif\nd: a | b\nifeq (a,b)\n>ifdef Q\n># n"))) ∷  -- alternatives-323
    (false, 100, codes "F = b a:b\nc: # c\n\t\n\trm -rf x\\\n", Chain (edit_on 1 (ChangeValue (One (Some 4294967295)) (codes "F") (edits.Remove (codes "a:b")))) (edit_on 3 (RemoveLines (OfRecipe None (codes "c") (ByText (codes "rm -rf x\\"))))) [] ∷ on_line 4 (Apply (AddRecipe None (codes "c") (At 2) (codes "a"))) ∷ [], ends (Refused 1) (codes "3: refused 1 BadArgument old\n") None) ∷  -- alternatives-324
    (true, 100, codes "ifdef A\nX\\\n= ; a \\\n    -O2 $(a b) a\\\n\nelse\nX\\\n+= $(s (b) a)\nendif\nc:\n> a\n>>a\nd: a | b\n\trm -f x\nc: ;\n>b\n# \\\n n\n>\nF= $$", on_line 1 (Apply (RemoveLines (OfAssign (Some 1) (codes "F")))) ∷ on_line 2 (Apply (AddLine (BeforeRule (Some 2) (codes "c")) (NewRule (codes "$(f {)") Single []))) ∷ on_line 3 (Apply (ChangeValue (One (Some 2)) (codes "X") (edits.Add (codes "b")))) ∷ Chain (edit_on 4 (ChangeValue (One (Some 1)) (codes "F") (edits.Append (codes "-O2")))) (edit_on 6 (ChangeValue (One None) (codes "F") (edits.Remove (codes "a")))) ((edit_on 8 (RemoveLines (OfRecipe (Some 2) (codes "c") (ByText (codes "a"))))) ∷ (edit_on 10 (SetRecipe (Some 2) (codes "c") (ByText (codes "rm -rf x")) [])) ∷ []) ∷ on_line 11 (Apply (ChangePrereqs (Some 2) (codes "c") (AddPrereq true (codes "%.c")))) ∷ Chain (edit_on 12 (ChangeValue (One (Some 2)) (codes "X") (edits.Remove (codes "$ b")))) (edit_on 13 (ChangeValue Every (codes "X") (edits.Set (codes "a")))) [] ∷ on_line 14 (Apply (ChangeValue Every (codes "X") (edits.Remove (codes ";")))) ∷ on_line 15 End ∷ [], ends (Refused 1) (codes "15: refused 19 NoGroup\n") (Some (codes "ifdef A\nX\\\n= a \\\n    -O2 $(a b) a\\\n\nelse\nX\\\n+= $(s (b) a) b\nendif\nc:\n> a\n>>a\nd: a | b\n\trm -f x\n$(f {):\nc: | %.c ;\n>b\n# \\\n n\n>\n"))) ∷  -- alternatives-325
    (false, 100, codes ".RECIPEPREFIX = >\nF\\\n= ${c}\r", on_line 1 (Apply (ChangeValue (One (Some 4294967295)) (codes "\\#x") (edits.Remove (codes "$(t -g)")))) ∷ Chain (edit_on 2 (ChangeValue (One None) (codes "F") (edits.Set (codes "$ b")))) (edit_on 3 (ChangeValue (One None) (codes "F") (edits.Remove (codes "-g")))) ((edit_on 4 (ChangeValue Every (codes "F") (edits.Remove (codes "\\\\a")))) ∷ (edit_on 5 (ChangeValue Every (codes "Y!") (edits.Set (codes "\\#")))) ∷ []) ∷ [], ends (Refused 1) (codes "1: refused 1 BadArgument name\n") None) ∷  -- alternatives-326
    (true, 100, codes "d: ; true\r\n>rm -f x\r\n>rm -rf x\r\n>a\r\nc %.o: ;\r\n\trm -rf x\r\n\t>a\r\n\ttrue \\\r\n\ttrue\r\nexport private define E # c\r\n", on_line 1 (Apply (ChangeValue (One None) (codes "a.b") (edits.Set (codes "-O2 b")))) ∷ on_line 2 Redo ∷ on_line 3 (Apply (RemoveLines (OfAssign (Some 0) (codes "override")))) ∷ on_line 4 (Apply (AddRecipe None (codes "d") (At 1) (codes "rm -rf x"))) ∷ on_line 5 (Apply (RemoveLines (OfRecipe None (codes "c") (ByText (codes "rm -rf x"))))) ∷ on_line 6 (Apply (AddRecipe (Some 1) (codes "c") (At 2) (codes "true"))) ∷ on_line 7 (Apply (ChangeValue (One (Some 4294967295)) (codes "F") (edits.Set []))) ∷ on_line 8 (Apply (RemoveLines (OfAssign None (codes "F")))) ∷ on_line 9 Begin ∷ tried_on 10 (ChangeValue Every (codes "F") (edits.Remove (codes "-g"))) ∷ [], ends (Refused 5) (codes "1: refused 4 NoSuch\n2: refused 17 NothingToRedo\n3: refused 4 NoSuch\n7: refused 4 NoSuch\n8: refused 4 NoSuch\n") (Some (codes "d: ; true\r\n\trm -rf x\r\n>rm -f x\r\n>rm -rf x\r\n>a\r\nc %.o: ;\r\n\t>a\r\n\ttrue\r\n\ttrue \\\r\n\ttrue\r\nexport private define E # c\r\n"))) ∷  -- alternatives-327
    (true, 100, codes "c: # c\nF\\\n+=# \\\n d\nF\\\n= -O2\\\n $(a\tb) $\\", on_line 1 Begin ∷ Chain (edit_on 2 (ChangeValue (One (Some 4294967295)) (codes "a.b") (edits.Append (codes "${c} -O2")))) (edit_on 4 (RemoveLines (OfAssign (Some 1) (codes "F")))) [] ∷ tried_on 5 (ChangeValue Every (codes "F") (edits.Add (codes ";"))) ∷ tried_on 6 (ChangeValue Every (codes "F") (edits.Remove (codes "$(a\tb)"))) ∷ on_line 7 (Apply (RemoveLines (OfRule None (codes "c")))) ∷ [], ends Done [] (Some (codes "F\\\n= -O2 $\\ ;"))) ∷  -- alternatives-328
    (false, 100, codes "include: # c\n>true\n>b\n>\n", on_line 1 (Apply (AddRecipe None (codes "include") (At 1) (codes " a"))) ∷ on_line 2 (Apply (ChangePrereqs None (codes "include") (RemovePrereq (codes "$(p #)")))) ∷ Chain (edit_on 3 (RemoveLines (OfAssign (Some 4294967295) (codes "F")))) (edit_on 5 (SetRecipe None (codes "include") (ByText (codes ">a")) [])) [] ∷ tried_on 6 (ChangeValue (One None) (codes "F") (edits.Append (codes "a$ b"))) ∷ on_line 7 (Apply (AddRecipe None (codes "include") (At 2) (codes "ifdef Q"))) ∷ on_line 8 Redo ∷ Chain (edit_on 9 (RemoveLines (OfAssign (Some 1) (codes "override")))) (edit_on 10 (RemoveLines (OfAssign (Some 2) (codes "X")))) ((edit_on 12 (ChangeValue Every (codes ".RECIPEPREFIX") (edits.Append []))) ∷ (edit_on 13 (RemoveLines (OfRecipe None (codes "include") (ByText (codes "say \"q\""))))) ∷ []) ∷ on_line 14 (Apply (RemoveLines (OfRecipe None (codes "include") (ByNumber 4294967295)))) ∷ on_line 15 (Apply (AddRecipe None (codes "include") (At 1) (codes " a"))) ∷ Chain (edit_on 16 (AddLine Bottom (NewRule [] Single []))) (edit_on 17 (SetRecipe None (codes "include") (ByText (codes "true")) (codes ">a"))) [] ∷ [], ends (Refused 1) (codes "1: refused 2 Reserved\n") None) ∷  -- alternatives-329
    (true, 100, codes "X\\\r\n::=b #-g\r\nc: a | b\r\n\ty\r\n", on_line 1 (Apply (ChangeValue (One None) (codes "F") (edits.Add (codes "x=1")))) ∷ on_line 2 (Apply (ChangeValue (One None) (codes "X") (edits.Remove (codes "b")))) ∷ on_line 3 End ∷ on_line 4 (Apply (ChangeValue (One None) (codes "X") (edits.Remove (codes "${c}")))) ∷ tried_on 5 (ChangeValue Every (codes "X") (edits.Remove (codes "$(a b)"))) ∷ on_line 6 (Apply (ChangeValue (One None) (codes "X") (edits.Remove (codes "a:b")))) ∷ Chain (edit_on 7 (AddRecipe None (codes "d") (At 1) (codes "\ttrue"))) (edit_on 9 (ChangeValue (One (Some 0)) (codes "X") (edits.Remove (codes "$\\")))) [] ∷ on_line 10 (Apply (AddRecipe (Some 0) (codes "c") (At 1) (codes "rm -rf x"))) ∷ tried_on 11 (ChangeValue Every (codes "X") (edits.Set (codes ";"))) ∷ on_line 12 (Apply (ChangeValue (One None) (codes "X") (edits.Add (codes "$\\x")))) ∷ [], ends (Refused 6) (codes "1: refused 4 NoSuch\n3: refused 19 NoGroup\n4: refused 6 Absent\n6: refused 6 Absent\n9: refused 1 BadArgument word\n10: refused 4 NoSuch\n") (Some (codes "X\\\r\n::=; $\\x#-g\r\nc: a | b\r\n\ty\r\n"))) ∷  -- alternatives-330
    (false, 100, codes ".RECIPEPREFIX = >\nc: a | b\nc c: a | b\n\t\n\t\n\ta # b\n", on_line 1 (Apply (ChangeValue (One None) (codes "F") (edits.Set (codes "a\\\\")))) ∷ Chain (edit_on 2 (RemoveLines (OfRecipe (Some 2) (codes "c") (ByText (codes "x \\ y"))))) (edit_on 4 (RemoveLines (OfRecipe (Some 1) (codes "c") (ByText (codes "# n"))))) ((edit_on 6 (RemoveLines (OfAssign None (codes "Y")))) ∷ (edit_on 8 (ChangeValue Every (codes "a.b") (edits.Append (codes "a$ b")))) ∷ []) ∷ on_line 9 (Apply (ChangeValue (One None) (codes "F") (edits.Remove (codes "-g")))) ∷ on_line 10 Redo ∷ Chain (edit_on 11 (RemoveLines (OfRecipe (Some 1) (codes "c") (ByNumber 2)))) (edit_on 12 (ChangeValue (One None) (codes "F") (edits.Add (codes "$(u")))) [] ∷ on_line 13 (Apply (ChangeValue (One None) (codes "F") (edits.Remove (codes "$(w a)")))) ∷ on_line 14 (Apply (RemoveLines (OfRecipe (Some 1) (codes "c") (ByText (codes "b"))))) ∷ on_line 15 Begin ∷ on_line 16 (Apply (ChangeValue (One None) (codes "F") (edits.Set (codes "b a")))) ∷ [], ends (Refused 1) (codes "1: refused 1 BadArgument value\n") None) ∷  -- alternatives-331
    (true, 100, codes ".RECIPEPREFIX = >\r\nF ::= -O2 \\\r\n b b \\\n \\\n -g -g\nF\\\n!= $ \t-O2 \\\n    a:b a\\$\nF\\\n=-g a:b |# \\\n d", tried_on 1 (ChangeValue (One (Some 2)) (codes "F") (edits.Remove (codes "a:b"))) ∷ Chain (edit_on 2 (AddRecipe None (codes "d") (At 1) (codes "t"))) (edit_on 3 (ChangeValue (One (Some 2)) (codes "F") (edits.Remove (codes "$\\x")))) ((edit_on 5 (ChangeValue Every (codes "F") (edits.Remove (codes "-g")))) ∷ []) ∷ tried_on 7 (ChangeValue Every (codes "F") (edits.Remove (codes "-g"))) ∷ [], ends (Refused 1) (codes "1: refused 11 OpenValue\n") (Some (codes ".RECIPEPREFIX = >\r\nF ::= -O2 \\\r\n b b\nF\\\n!= $ \t-O2 \\\n    a:b a\\$\nF\\\n=a:b |# \\\n d"))) ∷  -- alternatives-332
    (true, 100, codes "c: ;\n", on_line 1 (Apply (AddLine (BeforeRule None (codes "c")) (NewAssign (codes "endef") Shell (codes "$# a")))) ∷ on_line 2 (Apply (ChangeValue (One None) (codes "endef") (edits.Remove (codes "a")))) ∷ on_line 3 (Apply (AddRecipe None (codes "c") (At 1) (codes "t"))) ∷ on_line 4 (Apply (AddRecipe None (codes "c") (At 2) (codes "rm -f x"))) ∷ tried_on 5 (ChangeValue Every (codes "endef") (edits.Set (codes "-g"))) ∷ on_line 6 (Apply (ChangeValue (One None) (codes "endef") (edits.Append (codes "$$ -include2")))) ∷ tried_on 7 (ChangePrereqs None (codes "c") (AddPrereq true (codes "%.o"))) ∷ Chain (edit_on 8 (ChangePrereqs None (codes "c") (AddPrereq true (codes "%.o")))) (edit_on 10 (ChangeValue (One None) (codes "endef") (edits.Remove (codes "$$")))) [] ∷ [], ends Done [] (Some (codes "endef != -g $$ -include2\nc: | %.o ;\n\tt\n\trm -f x\n"))) ∷  -- alternatives-333
    (false, 100, codes ".RECIPEPREFIX = >\nc: a\n\trm -f x\nelse\nd c:\n>a\n>rm -rf x\n># n\n\n", on_line 1 (Apply (RemoveLines (OfRecipe None (codes "d") (ByText (codes "rm -rf x"))))) ∷ on_line 2 (Apply (SetRecipe None (codes "d") (ByText (codes "# n")) (codes "say \"q\""))) ∷ Chain (edit_on 3 (ChangeValue (One None) (codes "F") (edits.Remove (codes "b")))) (edit_on 4 (ChangeValue (One None) (codes "\\#x") (edits.Add (codes "$(a b)")))) ((edit_on 5 (SetRecipe (Some 2) (codes "c") (ByText (codes "a")) (codes "t"))) ∷ (edit_on 6 (AddRecipe (Some 2) (codes "c") (At 1) (codes "b"))) ∷ []) ∷ on_line 7 (Apply (SetRecipe None (codes "d") (ByText (codes "say \"q\"")) (codes "rm -rf x"))) ∷ tried_on 8 (AddRecipe (Some 2) (codes "c") (At 1) (codes "rm -rf x")) ∷ on_line 9 (Apply (AddRecipe (Some 2) (codes "c") (At 4) (codes "# n"))) ∷ on_line 10 (Apply (AddRecipe None (codes "d") (At 4) (codes "say \"q\""))) ∷ [], ends (Refused 1) (codes "4: refused 1 BadArgument name\n") None) ∷  -- alternatives-334
    (true, 100, codes "F\\\n::=-g a:b # a \\\\\n", Chain (edit_on 1 (RemoveLines (OfAssign None (codes "X")))) (edit_on 2 (ChangeValue (One None) (codes "F") (edits.Append []))) [] ∷ Chain (edit_on 3 (ChangeValue (One (Some 1)) (codes "F") (edits.Remove (codes "-g")))) (edit_on 5 (ChangeValue (One None) (codes "F") (edits.Remove (codes "-O2")))) ((edit_on 7 (ChangeValue (One None) (codes "F") (edits.Set (codes "a:b x=1")))) ∷ []) ∷ on_line 8 (Apply (ChangeValue (One None) (codes "F") (edits.Remove (codes "a:b")))) ∷ on_line 10 Undo ∷ [], ends (Refused 1) (codes "2: refused 1 BadArgument value\n") (Some (codes "F\\\n::=a:b # a \\\\\n"))) ∷  -- alternatives-335
    (false, 100, codes "F\\\n+= -g b \\\n-g -g\\\n\nF\\\n::== a\\\n\ta:b \\\n-g", on_line 1 (Apply (ChangeValue Every (codes "F") (edits.Remove (codes "-g")))) ∷ tried_on 2 (ChangeValue (One (Some 1)) (codes "override") (edits.Append (codes "b"))) ∷ on_line 3 Undo ∷ on_line 4 (Apply (ChangeValue (One (Some 1)) (codes "F") (edits.Remove (codes "-O2")))) ∷ tried_on 5 (ChangeValue (One (Some 1)) (codes "F") (edits.Add (codes "-g"))) ∷ Chain (edit_on 6 (ChangeValue (One None) (codes "override") (edits.Set (codes "a  |")))) (edit_on 7 (ChangeValue (One None) (codes "F") (edits.Add (codes "a")))) ((edit_on 9 (ChangeValue (One None) (codes "F") (edits.Remove (codes "=")))) ∷ []) ∷ on_line 10 Redo ∷ on_line 11 (Apply (ChangeValue Every (codes "F") (edits.Remove (codes "=")))) ∷ [], ends (Refused 1) (codes "4: refused 6 Absent\n") None) ∷  -- alternatives-336
    (true, 100, codes ".RECIPEPREFIX = >\nc:\n# | n\n\t\ttrue\n\trm -rf X\\\n!= a\\ # -g# \\\n d\n", on_line 1 (Apply (ChangeValue (One (Some 0)) (codes ".RECIPEPREFIX") (edits.Append (codes "b")))) ∷ on_line 2 (Apply (ChangeValue (One None) (codes "F") (edits.Remove (codes ";")))) ∷ on_line 3 Undo ∷ on_line 4 Undo ∷ [], ends (Refused 4) (codes "1: refused 2 Reserved\n2: refused 4 NoSuch\n3: refused 16 NothingToUndo\n4: refused 16 NothingToUndo\n") (Some (codes ".RECIPEPREFIX = >\nc:\n# | n\n\t\ttrue\n\trm -rf X\\\n!= a\\ # -g# \\\n d\n"))) ∷  -- alternatives-337
    (true, 100, codes "X=| \\\r\n    \\\\\\\\ -O2\t$(a\tb) \\\n    a", tried_on 1 (ChangeValue (One None) (codes "X") (edits.Remove (codes "|"))) ∷ Chain (edit_on 2 (RemoveLines (OfAssign (Some 4294967295) (codes "X")))) (edit_on 3 (ChangeValue (One None) (codes "X") (edits.Add (codes "a")))) ((edit_on 5 (ChangeValue (One None) (codes "X") (edits.Remove (codes "$(a\tb)")))) ∷ []) ∷ [], ends Done [] (Some (codes "X=\\\\\\\\ -O2\t$(a\tb) \\\n    a"))) ∷  -- alternatives-338
    (false, 100, codes "ifdef A\nF=a \nendif\n", tried_on 1 (AddRecipe None (codes "c") (At 1) (codes "say \"q\"")) ∷ tried_on 2 (ChangeValue Every (codes "F") (edits.Add (codes "a"))) ∷ tried_on 3 (ChangeValue Every (codes "F") (edits.Remove (codes "-g"))) ∷ on_line 4 (Apply (ChangeValue Every (codes "F") (edits.Append (codes "a")))) ∷ on_line 5 (Apply (ChangeValue (One None) (codes "F") (edits.Add (codes "$(t -g)")))) ∷ tried_on 6 (ChangeValue (One None) (codes "F") (edits.Add (codes "-g"))) ∷ [], ends Done [] (Some (codes "ifdef A\nF=a a $(t -g) -g \nendif\n"))) ∷  -- alternatives-339
    (true, 100, codes "c: ;\n\ttrue\n\ttrue \\\r\n\ttrue\n\t\ttrue\noverride?= ${v a#-g\nX = \t$(p #)\n t1:= b # c ", tried_on 1 (AddRecipe None (codes "c") (At 5) (codes "true")) ∷ on_line 2 (Apply (ChangeValue (One (Some 2)) (codes "override") (edits.Append (codes "a")))) ∷ on_line 3 (Apply (ChangeValue (One None) (codes "X") (edits.Remove (codes "$(p #)")))) ∷ Chain (edit_on 4 (ChangeValue (One None) (codes "X") (edits.Remove (codes "|")))) (edit_on 6 (RemoveLines (OfAssign None (codes "t1")))) [] ∷ on_line 7 (Apply (ChangeValue Every (codes "F") (edits.Set (codes "-g")))) ∷ on_line 8 (Apply (AddRecipe None (codes "%.o") Last [])) ∷ tried_on 9 (ChangeValue Every (codes "t1") (edits.Add (codes "a"))) ∷ on_line 10 End ∷ on_line 11 (Apply (ChangeValue (One None) (codes "X") (edits.Remove (codes "a\\ b")))) ∷ [], ends (Refused 5) (codes "2: refused 4 NoSuch\n7: refused 4 NoSuch\n8: refused 4 NoSuch\n10: refused 19 NoGroup\n11: refused 6 Absent\n") (Some (codes "c: ;\n\ttrue\n\ttrue \\\r\n\ttrue\n\t\ttrue\noverride?= ${v a#-g\nX = \t\n t1:= b a # c "))) ∷  -- alternatives-340
    (false, 100, codes "F:= $(w \\\n a) b \\\n    b \nc: ; true\nd: a", on_line 1 (Apply (ChangeValue (One None) (codes "F") (edits.Remove (codes "$(w a)")))) ∷ on_line 2 (Apply (AddLine Bottom (NewRule (codes "b") Single []))) ∷ on_line 3 (Apply (ChangeValue (One None) (codes "F") (edits.Remove (codes "b")))) ∷ tried_on 4 (ChangeValue (One None) (codes "F") (edits.Set (codes "%.c"))) ∷ tried_on 5 (ChangeValue Every (codes "F") (edits.Set (codes "$(t -g)"))) ∷ on_line 6 (Apply (ChangeValue (One None) (codes "F") (edits.Append (codes "a")))) ∷ on_line 7 (Apply (AddRecipe None (codes "c") (At 1) (codes "rm -rf x"))) ∷ [], ends Done [] (Some (codes "F:= $(t -g) a\nc: ; true\n\trm -rf x\nd: a\nb:\n"))) ∷  -- alternatives-341
    (false, 100, codes ".RECIPEPREFIX = >\nc: # c\n\t\n\tsay \"q\"\n\t# n\n\ttrue \\\r\n\ttrue\nd:\n\t\\\n\n\ta \\\n\tb", tried_on 1 (RemoveLines (OfRecipe None (codes "c") (ByText (codes "true")))) ∷ on_line 2 (Apply (ChangeValue (One None) (codes "F") (edits.Remove (codes "${c}")))) ∷ on_line 3 (Apply (ChangeValue (One (Some 0)) (codes "F") (edits.Remove (codes "$\\x")))) ∷ on_line 4 (Apply (ChangeValue (One None) (codes "F") (edits.Remove (codes "-g")))) ∷ on_line 5 (Apply (ChangeValue (One None) (codes "+") (edits.Add (codes "$ b")))) ∷ on_line 6 (Apply (RemoveLines (OfRecipe None (codes "d") (ByNumber 1)))) ∷ tried_on 7 (ChangeValue (One (Some 1)) (codes "F") (edits.Set (codes "2"))) ∷ Chain (edit_on 8 (RemoveLines (OfAssign None (codes "F")))) (edit_on 10 (ChangeValue (One (Some 2)) (codes "F") (edits.Add (codes ";")))) ((edit_on 12 (SetRecipe None (codes "d") (ByNumber 2) (codes "q:=1"))) ∷ []) ∷ on_line 13 End ∷ on_line 14 (Apply (AddRecipe (Some 4294967295) (codes "c") (At 1) (codes "true"))) ∷ [], ends (Refused 1) (codes "2: refused 4 NoSuch\n") None) ∷  -- alternatives-342
    (true, 100, codes ".RECIPEPREFIX = >\nc: a\n\t>a\n\tb\n\ta \\\n\tb\n\ta\n.RECIPEPREFIX = >\nifdef A\na.b:= -g -g\nelse\nX\\\n!=-O2# c\nendif\n", tried_on 1 (RemoveLines (OfAssign None (codes "F"))) ∷ on_line 2 (Apply (ChangeValue Every (codes "a.b") (edits.Append (codes "-g")))) ∷ on_line 3 (Apply (ChangeValue (One (Some 1)) (codes "a.b") (edits.Remove (codes "-g")))) ∷ [], ends Done [] (Some (codes ".RECIPEPREFIX = >\nc: a\n\t>a\n\tb\n\ta \\\n\tb\n\ta\n.RECIPEPREFIX = >\nifdef A\na.b:= \nelse\nX\\\n!=-O2# c\nendif\n"))) ∷  -- alternatives-343
    (false, 100, codes "F!=  \\\n \\\n \nd: a\n>a # b\nelse\nc c: a\n\trm -rf x\nF ::=a\\\n $(t \\\n -g)\\\n\\\na\n\trm -rf x\n\ttrue\n", on_line 1 (Apply (ChangeValue Every (codes "F") (edits.Add (codes "a")))) ∷ on_line 2 (Apply (ChangeValue (One (Some 2)) (codes "F") (edits.Remove (codes "$(t -g)")))) ∷ [], ends Done [] (Some (codes "F!=  \\\n \\\n a\nd: a\n>a # b\nelse\nc c: a\n\trm -rf x\nF ::=a\\\n\\\na\n\trm -rf x\n\ttrue\n"))) ∷  -- alternatives-344
    (false, 100, codes "F::=$$ ;\t-O2 \\\r\n; \\\n    a\\ \ninclude:: ; true\n\trm -rf x\n\t\n\t# n", tried_on 1 (ChangeValue Every (codes "F") (edits.Append (codes "\\\\a ;"))) ∷ tried_on 2 (ChangeValue (One (Some 2)) (codes "F") (edits.Append (codes "a\\ b"))) ∷ on_line 3 (Apply (ChangeValue (One None) (codes "F") (edits.Add (codes "x=1")))) ∷ on_line 4 Begin ∷ Chain (edit_on 5 (ChangeValue (One None) (codes "override") (edits.Append (codes "b")))) (edit_on 6 (ChangeValue (One None) (codes "F") (edits.Add (codes "$(w a)")))) [] ∷ on_line 7 (Apply (ChangeValue (One None) (codes "F") (edits.Append (codes "%.o")))) ∷ on_line 8 (Apply (RemoveLines (OfAssign None (codes "F")))) ∷ tried_on 9 (ChangeValue Every (codes "F") (edits.Remove (codes "-g"))) ∷ [], ends Done [] (Some (codes "include:: ; true\n\trm -rf x\n\t\n\t# n"))) ∷  -- alternatives-345
    (true, 100, codes ".RECIPEPREFIX = >\n\t ", on_line 1 (Apply (ChangeValue Every (codes "X") (edits.Remove (codes "a\\ b")))) ∷ on_line 2 (Apply (ChangeValue (One None) (codes "a\\=") (edits.Remove (codes "$ b")))) ∷ on_line 3 (Apply (RemoveLines (OfAssign None (codes "a.b")))) ∷ on_line 4 (Apply (ChangeValue (One None) (codes "override") (edits.Add (codes "\\\\a")))) ∷ [], ends (Refused 4) (codes "1: refused 4 NoSuch\n2: refused 1 BadArgument name\n3: refused 4 NoSuch\n4: refused 4 NoSuch\n") (Some (codes ".RECIPEPREFIX = >\n\t "))) ∷  -- alternatives-346
    (false, 100, codes "\\\n.PHONY:  ; $$ \\\n  \nd: a\n>\n>\n>ifdef Q\nc: ;\n# \\\n n\n>x \\ y\n>x \\ y\nX = -O2 ", on_line 1 Undo ∷ on_line 2 (Apply (ChangeValue Every (codes "X") (edits.Append (codes "a")))) ∷ Chain (edit_on 3 (ChangeValue (One None) (codes "X") (edits.Remove (codes "-O2")))) (edit_on 4 (RemoveLines (OfAssign (Some 4294967295) (codes "F")))) ((edit_on 6 (SetRecipe None (codes "d") (ByText (codes "true")) (codes "true"))) ∷ (edit_on 8 (ChangeValue (One (Some 1)) (codes "a.b") (edits.Append (codes "$(s (b) a) $x")))) ∷ []) ∷ on_line 9 Cancel ∷ [], ends (Refused 1) (codes "1: refused 16 NothingToUndo\n") None) ∷  -- alternatives-348
    (true, 100, codes "F = | \\\n    -g \\\\\\\\\\\n\\\n|  $(s (b) a)\nF= # a \\\\\nifdef A\nF\\\n= b # a \\\\\nelse\nF = | #\nendif\na.b = ;\\\n-g x=1# a \\\\", Chain (edit_on 1 (ChangeValue (One (Some 4294967295)) (codes "a.b") (edits.Remove (codes ";")))) (edit_on 2 (ChangeValue (One (Some 3)) (codes "F") (edits.Add (codes "${c}")))) [] ∷ [], ends Done [] (Some (codes "F = | \\\n    -g \\\\\\\\\\\n\\\n|  $(s (b) a)\nF= # a \\\\\nifdef A\nF\\\n= b # a \\\\\nelse\nF = | ${c} #\nendif\na.b = ;\\\n-g x=1# a \\\\"))) ∷  -- alternatives-349
    (false, 100, codes "F = = $\\\\\n a\\\n\t-O2 \\\n \\\n a#\n%.o: ;\n\t\ttrue\noverride != a:b \\\n    \nifdef A\nF += $(a\tb)\nelse\nexport X = \\ b ${c}\\\n\t= \\\r\n |\nendif", tried_on 1 (ChangeValue Every (codes "F") (edits.Add (codes "-g"))) ∷ on_line 2 (Apply (SetRecipe (Some 1) (codes "%.o") (ByText (codes "\ttrue")) (codes "a # b"))) ∷ on_line 3 (Apply (SetRecipe (Some 4294967295) (codes "c") (ByText (codes " a")) (codes "a # b"))) ∷ [], ends (Refused 1) (codes "1: refused 11 OpenValue\n") None) ∷  -- alternatives-350
    (true, 100, codes "X = a $$# \\\n d\nd:: a | b\noverride\\\n= a:b ${c}\n", tried_on 1 (ChangeValue (One None) (codes "X") (edits.Remove (codes "a"))) ∷ tried_on 2 (RemoveLines (OfRecipe (Some 1) (codes "d") (ByText (codes "x \\ y")))) ∷ Chain (edit_on 3 (RemoveLines (OfAssign None (codes "F")))) (edit_on 4 (RemoveLines (OfAssign None (codes "F")))) ((edit_on 5 (ChangeValue Every (codes "override") (edits.Remove (codes "${c}")))) ∷ []) ∷ [], ends Done [] (Some (codes "X = $$# \\\n d\nd:: a | b\noverride\\\n= a:b\n"))) ∷  -- alternatives-351
    (false, 100, codes "X\\\n!= g\nF=> -g - -g  a$\\\n", on_line 1 (Apply (ChangeValue (One None) (codes "F") (edits.Set (codes "; \\\\a")))) ∷ on_line 2 (Apply (ChangeValue (One None) (codes "X") (edits.Remove (codes "g")))) ∷ tried_on 3 (AddRecipe (Some 2) (codes "c") (At 1) (codes " a")) ∷ tried_on 4 (ChangeValue (One (Some 2)) (codes "X") (edits.Remove (codes "b"))) ∷ tried_on 5 (RemoveLines (OfRule None (codes "x.o"))) ∷ tried_on 6 (ChangeValue Every (codes "X") (edits.Set [])) ∷ [], ends Done [] (Some (codes "X\\\n!= \nF=; \\\\a\n"))) ∷  -- alternatives-352
    (false, 100, codes "ifdef A\nF = b\\\n -g \nendif", on_line 1 Begin ∷ on_line 2 (Apply (ChangeValue (One None) (codes "F") (edits.Remove (codes "-g")))) ∷ Chain (edit_on 3 (ChangeValue (One None) (codes "F") (edits.Append (codes "1")))) (edit_on 4 (ChangeValue (One None) (codes "+") (edits.Remove (codes "=")))) [] ∷ on_line 5 (Apply (ChangeValue (One None) (codes "F") (edits.Add (codes "a")))) ∷ Chain (edit_on 6 (RemoveLines (OfAssign (Some 4294967295) (codes "F")))) (edit_on 7 (ChangePrereqs (Some 4294967295) (codes "$(s\\)") (AddPrereq true (codes "-include2")))) ((edit_on 9 (ChangeValue Every (codes "F") (edits.Remove (codes "\\#")))) ∷ []) ∷ tried_on 10 (ChangeValue Every (codes "F") (edits.Remove (codes "${c}"))) ∷ on_line 11 (Apply (ChangeValue (One None) (codes "F") (edits.Add (codes "$\\x")))) ∷ [], ends Done [] (Some (codes "ifdef A\nF = b 1 a $\\x \nendif"))) ∷  -- alternatives-353
    (true, 100, codes "d: a | b\nelse\nX:= -g\\\n\t; -g  \\\\\\\\ $$#-g", tried_on 1 (SetRecipe (Some 0) (codes "d") (ByText (codes "a # b")) (codes ">a")) ∷ on_line 2 (Apply (AddRecipe (Some 1) (codes "d") Last (codes "\tb"))) ∷ Chain (edit_on 3 (ChangeValue (One None) (codes "X") (edits.Add (codes "-O2")))) (edit_on 4 (ChangeValue (One None) (codes "X") (edits.Add (codes "-g")))) ((edit_on 5 (ChangeValue (One (Some 0)) (codes "X") (edits.Remove (codes "b")))) ∷ (edit_on 6 (AddLine (BeforeRule None (codes "d")) (NewRule (codes "foo") Double (codes "b c")))) ∷ []) ∷ tried_on 7 (ChangeValue (One None) (codes "X") (edits.Remove (codes "-O2"))) ∷ on_line 8 (Apply (RemoveLines (OfAssign (Some 1) (codes "X")))) ∷ [], ends Done [] (Some (codes "d: a | b\n\t\tb\nelse\n"))) ∷  -- alternatives-354
    (false, 100, codes "F = = $(a b)\nd: ;\nX += \n\tifdef Q\n\t\n\t\nifdef A\noverride\\\n::=  # \\\n d\nendif\nd: # c\nifdef A\n\ta\\\n b\n\ta\n\ttrue\n", tried_on 1 (AddRecipe (Some 0) (codes "c") (At 1) (codes "rm -f x")) ∷ tried_on 2 (ChangePrereqs (Some 0) (codes ".PHONY") (AddPrereq false (codes "$(p #)"))) ∷ on_line 3 (Apply (RemoveLines (OfRecipe (Some 1) (codes "d") (ByText (codes "true"))))) ∷ Chain (edit_on 4 (SetRecipe (Some 1) (codes "d") (ByText (codes "\ttrue")) (codes "x \\ y"))) (edit_on 6 (RemoveLines (OfRecipe (Some 1) (codes "d") (ByText (codes "a"))))) ((edit_on 8 (ChangeValue (One (Some 0)) (codes "override") (edits.Remove (codes "a$ b")))) ∷ (edit_on 10 (ChangeValue (One None) (codes "F") (edits.Remove (codes "=")))) ∷ []) ∷ on_line 11 Cancel ∷ Chain (edit_on 12 (ChangeValue (One None) (codes "override") (edits.Add (codes "$\\x")))) (edit_on 14 (ChangeValue (One (Some 1)) (codes "X") (edits.Remove (codes "b")))) ((edit_on 16 (ChangeValue (One None) (codes "F") (edits.Remove (codes "$(a b)")))) ∷ []) ∷ on_line 17 Undo ∷ [], ends (Refused 1) (codes "3: refused 6 Absent\n") None) ∷  -- alternatives-355
    (true, 100, codes ".RECIPEPREFIX = >\noverride ::= \n", on_line 1 (Apply (ChangeValue (One (Some 0)) (codes "override") (edits.Set (codes "%.c")))) ∷ on_line 2 Redo ∷ tried_on 3 (ChangeValue (One None) (codes "override") (edits.Set [])) ∷ on_line 4 End ∷ on_line 5 Undo ∷ on_line 6 (Apply (ChangeValue (One None) (codes "override") (edits.Remove (codes "=")))) ∷ on_line 7 (Apply (ChangeValue (One None) (codes "override") (edits.Remove (codes "$x")))) ∷ tried_on 8 (ChangeValue Every (codes "override") (edits.Set (codes "-O2"))) ∷ on_line 9 Undo ∷ [], ends (Refused 5) (codes "1: refused 4 NoSuch\n2: refused 17 NothingToRedo\n4: refused 19 NoGroup\n6: refused 6 Absent\n7: refused 6 Absent\n") (Some (codes ".RECIPEPREFIX = >\noverride ::= \n"))) ∷  -- alternatives-356
    []

answers_7 : map (λ row. came_to row.0 row.1 row.2 row.3) rows_7 ≡ map (λ row. row.4) rows_7
unfolding digits
answers_7 = refl

abbrev rows_8 : List (Bool × ℕ × List ℕ × List Step × RunResult)
rows_8 =
    (true, 100, codes ".RECIPEPREFIX = >\r\nifdef A\r\nF =a -g\r\nelse\r\nF\\\r\n= |  ${c}\\\r\n\t# \\\r\n d\r\nendif\r\nd: # c\r\n\trm -f x\r\nF\\\r\n= |\r\nF != \\\r\n \\\r\n |\r\n", on_line 1 (Apply (RemoveLines (OfRecipe None (codes "d") (ByText (codes "true"))))) ∷ Chain (edit_on 2 (SetRecipe (Some 1) (codes "d") (ByText (codes "t")) (codes "ifdef Q"))) (edit_on 3 (ChangeValue Every (codes "F") (edits.Append (codes "b")))) [] ∷ on_line 4 (Apply (SetRecipe None (codes "d") (ByText (codes "ifdef Q")) (codes "a\\\\"))) ∷ on_line 5 (Apply (ChangeValue (One None) (codes "F") (edits.Add (codes " a")))) ∷ on_line 6 Redo ∷ on_line 7 (Apply (AddRecipe None (codes "d") (At 1) (codes "\ttrue"))) ∷ on_line 8 (Apply (RemoveLines (OfRecipe None (codes "d") (ByText (codes "\ttrue"))))) ∷ [], ends (Refused 4) (codes "1: refused 6 Absent\n4: refused 1 BadArgument line\n5: refused 1 BadArgument word\n6: refused 17 NothingToRedo\n") (Some (codes ".RECIPEPREFIX = >\r\nifdef A\r\nF =a -g\r\nelse\r\nF\\\r\n= |  ${c}\\\r\n\t# \\\r\n d\r\nendif\r\nd: # c\r\n\trm -f x\r\nF\\\r\n= |\r\nF != \\\r\n \\\r\n |\r\n"))) ∷  -- alternatives-357
    (false, 100, codes "F\\\n:+= b \\\n X\\\n ${c} x=1 ", on_line 1 (Apply (RemoveLines (OfAssign None (codes "override")))) ∷ on_line 2 Redo ∷ Chain (edit_on 3 (ChangeValue Every (codes "X") (edits.Add (codes "|")))) (edit_on 5 (RemoveLines (OfRecipe (Some 1) (codes "c") (ByText (codes "# n"))))) [] ∷ on_line 6 End ∷ on_line 7 (Apply (ChangeValue (One None) (codes "F") (edits.Remove (codes "${c}")))) ∷ [], ends (Refused 1) (codes "1: refused 4 NoSuch\n") None) ∷  -- alternatives-359
    (false, 100, codes "X =\\\n\\\nb a\\$\nifdef A\nF\\\n!= \nelse\noverride\\\n=a # a \\\\\nendif\n", Chain (edit_on 1 (ChangeValue (One None) (codes "F") (edits.Append (codes "b")))) (edit_on 2 (ChangeValue (One None) (codes "override") (edits.Remove (codes "a")))) [] ∷ on_line 3 (Apply (ChangeValue Every (codes "F") (edits.Remove (codes "b")))) ∷ tried_on 4 (ChangeValue (One None) (codes "override") (edits.Remove (codes "a"))) ∷ on_line 5 Begin ∷ [], ends Done [] (Some (codes "X =\\\n\\\nb a\\$\nifdef A\nF\\\n!= \nelse\noverride\\\n=# a \\\\\nendif\n"))) ∷  -- alternatives-360
    (false, 100, codes ".RECIPEPREFIX = >\nF:=\n\\\n\t\n", on_line 1 (Apply (ChangeValue Every (codes "F") (edits.Add (codes "$\\x")))) ∷ on_line 2 (Apply (RemoveLines (OfAssign None (codes "F")))) ∷ [], ends Done [] (Some (codes ".RECIPEPREFIX = >\n\\\n\t\n"))) ∷  -- alternatives-362
    (false, 100, codes ".RECIPEPREFIX = >\nc c: ;\n>a", on_line 1 End ∷ on_line 2 (Apply (ChangeValue Every (codes "F") (edits.Add (codes " a")))) ∷ on_line 3 Redo ∷ [], ends (Refused 1) (codes "1: refused 19 NoGroup\n") None) ∷  -- alternatives-363
    (false, 100, codes "F =$(t \\\n -g)  a  x=1#-g\n", on_line 1 (Apply (AddLine (BeforeVar None (codes "F")) (NewAssign (codes "ifdef") PosixSimple (codes "$#")))) ∷ on_line 2 Cancel ∷ on_line 3 (Apply (ChangeValue (One None) (codes "ifdef") (edits.Add (codes "${c}")))) ∷ on_line 4 (Apply (ChangeValue (One (Some 1)) (codes "F") (edits.Remove (codes "a")))) ∷ Chain (edit_on 5 (ChangeValue Every (codes "F") (edits.Add (codes "x=1")))) (edit_on 7 (ChangeValue (One (Some 1)) (codes "F") (edits.Add (codes "x=1")))) ((edit_on 8 (ChangeValue (One (Some 1)) (codes "F") (edits.Add (codes "|")))) ∷ (edit_on 9 (ChangeValue (One None) (codes "ifdef") (edits.Remove (codes "${c}")))) ∷ []) ∷ on_line 10 Begin ∷ [], ends (Refused 1) (codes "2: refused 19 NoGroup\n") None) ∷  -- alternatives-364
    (true, 100, codes "\t&: A += $(f {)\t", tried_on 1 (ChangeValue Every (codes "F") (edits.Append (codes "a"))) ∷ on_line 2 (Apply (RemoveLines (OfRecipe (Some 2) (codes "d") (ByText (codes "a"))))) ∷ on_line 3 End ∷ on_line 4 (Apply (AddRecipe (Some 0) (codes "c") (At 1) (codes "ifdef Q"))) ∷ [], ends (Refused 3) (codes "2: refused 4 NoSuch\n3: refused 19 NoGroup\n4: refused 4 NoSuch\n") (Some (codes "\t&: A += $(f {)\t"))) ∷  -- alternatives-365
    (false, 100, codes "F\\\n= |\\\n x$(a  b) x$(a  b)\n", on_line 1 (Apply (ChangeValue (One None) (codes "F") (edits.Append (codes "b $(q:;=|)")))) ∷ tried_on 2 (ChangeValue Every (codes "F") (edits.Add (codes "b"))) ∷ tried_on 3 (ChangeValue (One (Some 0)) (codes "F") (edits.Set [])) ∷ tried_on 4 (ChangeValue Every (codes "F") (edits.Add (codes "-g"))) ∷ tried_on 5 (ChangeValue (One (Some 0)) (codes "F") (edits.Add (codes "$(a b)"))) ∷ [], ends Done [] (Some (codes "F\\\n= |\\\n x$(a  b) x$(a  b) b $(q:;=|) -g\n"))) ∷  -- alternatives-366
    (true, 100, codes "F!= $x  $# -g\\\na\\\\ $(t \\\n -g)\nF = -O2 a\t-O2\\\n -g\\\n\\\n${c}# \\\n d\r", Chain (edit_on 1 (ChangeValue Every (codes "X$:") (edits.Remove (codes "b")))) (edit_on 3 (ChangeValue (One None) (codes "F") (edits.Add (codes "b")))) [] ∷ on_line 4 (Apply (ChangeValue (One (Some 1)) (codes "F") (edits.Remove (codes "-g")))) ∷ tried_on 5 (ChangeValue (One None) (codes "F") (edits.Set [])) ∷ on_line 6 (Apply (ChangeValue (One None) (codes "F") (edits.Add (codes "\\\\a")))) ∷ on_line 7 (Apply (ChangeValue (One None) (codes "F") (edits.Add (codes "x=1")))) ∷ on_line 8 Undo ∷ [], ends (Refused 1) (codes "1: refused 1 BadArgument name\n") (Some (codes "F!= \\\\a\nF = -O2 a\t-O2\\\n -g\\\n\\\n${c}# \\\n d\r"))) ∷  -- alternatives-367
    (false, 100, codes "c: ;\r\n\ttrue\r\n\ta\\\r\n b\r\n\t>a\r\n", on_line 1 (Apply (RemoveLines (OfRecipe (Some 1) (codes "c") (ByText (codes "rm -f x"))))) ∷ on_line 2 (Apply (SetRecipe None (codes "c") (ByText (codes "true")) (codes "ifdef Q"))) ∷ tried_on 3 (AddRecipe None (codes "c") (At 4) (codes "# n")) ∷ on_line 4 (Apply (AddRecipe None (codes "c") (At 1) (codes "a\\\\"))) ∷ tried_on 5 (AddRecipe (Some 0) (codes "c") (At 1) (codes "a\0")) ∷ Chain (edit_on 6 (RemoveLines (OfRecipe None (codes "c") (ByText (codes ">a"))))) (edit_on 7 (ChangeValue Every (codes "F") (edits.Set (codes ";")))) ((edit_on 9 (ChangeValue (One None) (codes "X") (edits.Set (codes "$(a b) $(p #) $(s\\)")))) ∷ (edit_on 11 (ChangeValue (One (Some 1)) (codes "F") (edits.Set []))) ∷ []) ∷ [], ends (Refused 1) (codes "1: refused 6 Absent\n") None) ∷  -- alternatives-368
    (true, 100, codes "a.b =a ", on_line 1 Undo ∷ on_line 2 (Apply (ChangeValue Every (codes "a.b") (edits.Append (codes "-g")))) ∷ Chain (edit_on 3 (ChangeValue (One None) (codes "a.b") (edits.Add (codes "-g")))) (edit_on 5 (ChangeValue (One (Some 1)) (codes "$(X)") (edits.Remove (codes "$(a b)")))) [] ∷ on_line 6 (Apply (ChangeValue (One (Some 1)) (codes "a.b") (edits.Add (codes "a")))) ∷ on_line 7 Undo ∷ on_line 8 (Apply (ChangeValue (One None) (codes "a.b") (edits.Remove (codes "a")))) ∷ on_line 9 Undo ∷ on_line 11 (Apply (ChangeValue (One None) (codes "a.b") (edits.Add (codes "\\#")))) ∷ on_line 12 (Apply (AddLine (AfterVar None (codes "a.b")) (NewRule (codes "-include2") Double (codes "$(f {) a")))) ∷ [], ends (Refused 2) (codes "1: refused 16 NothingToUndo\n6: refused 7 Already\n") (Some (codes "a.b =a \\# \n-include2:: $(f {) a\n"))) ∷  -- alternatives-369
    (false, 100, codes "F\\\r\n?= -O2 a \\\r\n \\\r\n $x a  #-g\r\noverride= a\r\nifdef A\r\nF += -g\r\nelse\r\nF\\\r\n+= a\\\r\n\\\r\n-g\\\r\n\t-O2 \\\r\n \\#\\\r\nx$(a  b) \r\nendif\r\nF+= a  = \\\r\n \\\r\n -g\r\nifdef A\r\noverride = b\r\nelse\r\nF =\\\r\n \r\nendif\r\n", Chain (edit_on 1 (RemoveLines (OfAssign (Some 1) (codes "F")))) (edit_on 2 (RemoveLines (OfAssign (Some 2) (codes "F")))) [] ∷ on_line 3 Redo ∷ Chain (edit_on 4 (ChangeValue (One (Some 3)) (codes "F") (edits.Add (codes "=")))) (edit_on 5 (ChangeValue (One (Some 2)) (codes "F") (edits.Set (codes "1")))) ((edit_on 7 (ChangeValue (One None) (codes "override") (edits.Set (codes "a\\:b")))) ∷ (edit_on 8 (AddLine Bottom (NewRule (codes ".PHONY $(a b)") Double []))) ∷ []) ∷ on_line 9 (Apply (ChangeValue Every (codes "override") (edits.Append (codes "b")))) ∷ on_line 10 Redo ∷ on_line 11 (Apply (ChangeValue (One (Some 1)) (codes "F") (edits.Remove (codes "-g")))) ∷ on_line 12 (Apply (RenameTarget (codes "${c}") (codes ".PHONY"))) ∷ [], ends (Refused 1) (codes "3: refused 17 NothingToRedo\n") None) ∷  -- alternatives-370
    (true, 100, codes "F = \r\n\\\n# \\", tried_on 1 (ChangeValue Every (codes "F") (edits.Remove (codes "a "))) ∷ [], ends (Refused 1) (codes "1: refused 1 BadArgument word\n") (Some (codes "F = \r\n\\\n# \\"))) ∷  -- alternatives-371
    (false, 100, codes "F = \\\r\n# a \\\\\r\nd&: ; true\r\n\ttrue\r\n\t a\r\noverride F = b# a \\\\\r\nX := x=1 # c\r\nF ::= -O2 -O2\r\nifdef A\r\nF\\\r\n::=$(A -g) \\\r\n a \r\nelse\r\nF\\\r\n= -g b a # a \\\\\r\nendif\r\n", on_line 1 (Apply (RemoveLines (OfAssign (Some 5) (codes "F")))) ∷ on_line 2 (Apply (AddRecipe None (codes "d") Last (codes "$("))) ∷ on_line 3 Redo ∷ on_line 4 (Apply (ChangeValue Every (codes "F") (edits.Add (codes "a\\ b")))) ∷ Chain (edit_on 5 (SetRecipe None (codes "d") (ByText (codes " a")) (codes "say \"q\""))) (edit_on 6 (RenameTarget (codes "d") (codes "x=1"))) [] ∷ [], ends (Refused 1) (codes "3: refused 17 NothingToRedo\n") None) ∷  -- alternatives-373
    (true, 100, codes ".RECIPEPREFIX = >\nF= -g -g \nc:: a | b\n\tt\nF = a a:b\nF\\\n?= $\\  $(u\\\n -O2 \\ b \\\n \\\n $ \nc:\nendif\n>say \"q\"\n", on_line 1 Redo ∷ on_line 2 Redo ∷ Chain (edit_on 3 (SetRecipe (Some 2) (codes "c") (ByText (codes "a")) (codes "t"))) (edit_on 5 (RemoveLines (OfRecipe (Some 2) (codes "c") (ByText (codes "b"))))) ((edit_on 6 (RemoveLines (OfRecipe (Some 2) (codes "c") (ByText (codes "x \\ y"))))) ∷ (edit_on 7 (RenameTarget (codes "c") (codes "x.o"))) ∷ []) ∷ on_line 8 (Apply (ChangeValue (One None) (codes "F") (edits.Remove (codes "-g")))) ∷ on_line 9 Cancel ∷ [], ends (Refused 4) (codes "1: refused 17 NothingToRedo\n2: refused 17 NothingToRedo\n8: refused 5 Ambiguous 3\n9: refused 19 NoGroup\n") (Some (codes ".RECIPEPREFIX = >\nF= -g -g \nc:: a | b\n\tt\nF = a a:b\nF\\\n?= $\\  $(u\\\n -O2 \\ b \\\n \\\n $ \nc:\nendif\n>say \"q\"\n"))) ∷  -- alternatives-375
    (false, 100, codes "F=\t$$ b\t-g#-g\n", on_line 1 (Apply (ChangeValue Every (codes "F") (edits.Remove (codes "-g")))) ∷ on_line 2 Undo ∷ on_line 3 (Apply (ChangeValue (One None) (codes "F") (edits.Remove (codes "-g")))) ∷ [], ends Done [] (Some (codes "F=\t$$ b#-g\n"))) ∷  -- alternatives-376
    (false, 100, codes "\nX\\\n= -g =\nifdef A\nF := x=1\\\n\t|#-g\nelse\nF+=-O2 ${c}\nendif\n", on_line 1 (Apply (ChangeValue Every (codes "F") (edits.Append (codes "a\\ b a$ b")))) ∷ on_line 2 (Apply (ChangeValue (One None) (codes "X") (edits.Remove (codes "=")))) ∷ on_line 3 Begin ∷ on_line 4 (Apply (ChangeValue Every (codes "F") (edits.Add (codes "-g")))) ∷ on_line 5 (Apply (ChangeValue (One (Some 1)) (codes "F") (edits.Remove (codes "a$ b")))) ∷ on_line 6 (Apply (AddLine (BeforeVar (Some 1) (codes "F")) (NewAssign (codes "override") Conditional []))) ∷ Chain (edit_on 7 (ChangeValue (One (Some 2)) (codes "F") (edits.Add (codes "-O2")))) (edit_on 8 (ChangeValue (One (Some 1)) (codes "F") (edits.Remove (codes "-g")))) [] ∷ [], ends Done [] (Some (codes "\nX\\\n= -g\nifdef A\noverride ?=\nF := x=1\\\n\t| a\\ b -g#-g\nelse\nF+=-O2 ${c} a\\ b a$ b -g\nendif\n"))) ∷  -- alternatives-378
    (true, 100, codes "ifdef A\r\nX= -g = =\\\r\n x$(a  b) b# a \\\\\r\nelse\r\noverride F != $#\r\nendif\r\noverride F::= ; =\\\r\n a:b# \\\r\n d", on_line 1 (Apply (ChangeValue (One None) (codes "X") (edits.Remove (codes "-g")))) ∷ on_line 2 (Apply (ChangeValue Every (codes "F") (edits.Add (codes "-O2")))) ∷ on_line 3 (Apply (SetRecipe None (codes "d") (ByText (codes "rm -f x")) (codes "rm -f x"))) ∷ on_line 4 (Apply (ChangeValue (One None) (codes "F") (edits.Remove (codes "=")))) ∷ [], ends (Refused 2) (codes "3: refused 4 NoSuch\n4: refused 5 Ambiguous 2\n") (Some (codes "ifdef A\r\nX= = =\\\r\n x$(a  b) b# a \\\\\r\nelse\r\noverride F != $# -O2\r\nendif\r\noverride F::= ; =\\\r\n a:b -O2# \\\r\n d"))) ∷  -- alternatives-379
    (true, 100, codes "\t \nF\\\n:= b\t-g\\\n a \\\n \\\n x=1 a\\\\ #-g\n", on_line 1 End ∷ on_line 2 Cancel ∷ Chain (edit_on 3 (RemoveLines (OfAssign None (codes "override")))) (edit_on 4 (ChangeValue (One None) (codes "F") (edits.Remove (codes "-g")))) [] ∷ on_line 5 (Apply (ChangeValue Every (codes "F") (edits.Remove (codes "a")))) ∷ Chain (edit_on 6 (ChangeValue (One None) (codes "F") (edits.Remove (codes "a:b")))) (edit_on 8 (ChangeValue (One (Some 2)) (codes "F") (edits.Remove (codes "x=1")))) ((edit_on 10 (ChangeValue (One (Some 2)) (codes "F") (edits.Add (codes "-g")))) ∷ []) ∷ tried_on 11 (ChangeValue (One (Some 1)) (codes "F") (edits.Set (codes "-O2"))) ∷ on_line 12 (Apply (ChangeValue (One None) (codes "F") (edits.Add (codes "b")))) ∷ on_line 13 (Apply (AddLine Bottom (NewRule (codes "-include2") Single (codes "${c} .PHONY")))) ∷ on_line 14 (Apply (AddRecipe (Some 2) (codes "-include2") (At 1) (codes "rm -f x"))) ∷ on_line 15 (Apply (ChangeValue Every (codes "F") (edits.Add (codes "|")))) ∷ [], ends (Refused 3) (codes "1: refused 19 NoGroup\n2: refused 19 NoGroup\n14: refused 4 NoSuch\n") (Some (codes "\t \nF\\\n:= -O2 b | #-g\n-include2: ${c} .PHONY\n"))) ∷  -- alternatives-381
    (false, 100, codes "X ?= $\\ $\\ \nc:\n\trm -f x\n\tifdef Q\n\tx \\ y\n", on_line 1 (Apply (ChangeValue (One None) (codes "X") (edits.Remove (codes "$\\")))) ∷ on_line 2 (Apply (AddLine (BeforeRule (Some 0) (codes "c")) (NewAssign (codes "CC") Recursive []))) ∷ tried_on 3 (SetRecipe None (codes "c") (ByText (codes "say \"q\"")) (codes "rm -f x")) ∷ Chain (edit_on 4 (RemoveLines (OfRecipe (Some 0) (codes "c") (ByText (codes "x \\ y"))))) (edit_on 5 (ChangeValue Every (codes "X") (edits.Set (codes "a")))) [] ∷ [], ends (Refused 1) (codes "1: refused 1 BadArgument word\n") None) ∷  -- alternatives-382
    (true, 100, codes "ifdef A\na.b := $(s (b) a)\\\n\\\n-O2 \nelse\nF += a a\\\n x$(a  b) \nendif\nc&: # c\n\tb\n\t\nF = -O2\\\n\ta\\\\#\n", tried_on 1 (ChangeValue Every (codes "F") (edits.Add (codes "-g"))) ∷ tried_on 2 (ChangeValue (One None) (codes "a.b") (edits.Remove (codes "$(s (b) a)"))) ∷ on_line 3 (Apply (ChangeValue (One (Some 1)) (codes "F") (edits.Remove (codes "a")))) ∷ [], ends Done [] (Some (codes "ifdef A\na.b := -O2 \nelse\nF += x$(a  b) -g \nendif\nc&: # c\n\tb\n\t\nF = -O2\\\n\ta\\\\ -g#\n"))) ∷  -- alternatives-383
    (false, 100, codes "ifdef A\noverride = \nelse\nF\\\n::=\t\nendif\n\t \nc: a\n>true\n>true\n# \r\n", on_line 1 (Apply (ChangeValue (One None) (codes "F") (edits.Add (codes "$x")))) ∷ tried_on 2 (RemoveLines (OfRecipe None (codes "c") (ByText (codes "true")))) ∷ on_line 3 (Apply (RemoveLines (OfAssign None (codes "F")))) ∷ on_line 4 (Apply (RemoveLines (OfRule (Some 1) (codes "c")))) ∷ on_line 5 Undo ∷ Chain (edit_on 6 (ChangeValue (One (Some 4294967295)) (codes "X") (edits.Remove (codes "=")))) (edit_on 7 (ChangeValue (One None) (codes "override") (edits.Remove (codes "${c}")))) ((edit_on 9 (RemoveLines (OfRule (Some 4294967295) (codes "c")))) ∷ (edit_on 11 (AddRecipe None (codes "c") (At 1) (codes "rm -f x"))) ∷ []) ∷ on_line 12 (Apply (ChangeValue Every (codes "override") (edits.Set []))) ∷ Chain (edit_on 13 (ChangeValue (One (Some 4294967295)) (codes "F") (edits.Set (codes "-g |")))) (edit_on 15 (ChangeValue (One None) (codes "override") (edits.Remove (codes "x$(a  b)")))) ((edit_on 17 (AddLine (AfterVar None (codes "override")) (NewRule (codes "${g(}") Double (codes "${g(}")))) ∷ (edit_on 19 (ChangeValue (One None) (codes "override") (edits.Add (codes "b")))) ∷ []) ∷ on_line 20 (Apply (ChangeValue Every (codes "override") (edits.Set (codes "$x")))) ∷ [], ends Done [] (Some (codes "ifdef A\noverride = $x\nelse\nendif\n\t \nc: a\n>true\n>true\n# \r\n"))) ∷  -- alternatives-384
    (true, 100, codes "c&: a\n\t\ttrue\n\ttrue\nc: a | b\nc c: ; true\nc: ;\nF\\\n=Ã©\n", on_line 1 (Apply (ChangeValue (One None) (codes "F") (edits.Append (codes "-g")))) ∷ on_line 2 (Apply (ChangeValue (One None) (codes "F") (edits.Remove (codes "-g")))) ∷ on_line 3 (Apply (RemoveLines (OfAssign None (codes "F")))) ∷ on_line 4 (Apply (RemoveLines (OfRule (Some 2) (codes "c")))) ∷ [], ends Done [] (Some (codes "c&: a\n\t\ttrue\n\ttrue\nc c: ; true\nc: ;\n"))) ∷  -- alternatives-385
    (true, 100, codes "{;a?+)\r\nc: ;\r\n# n\r\n>a\r\n>rm -f x\r\n", tried_on 1 (AddLine Bottom (NewRule (codes "${c}") Single (codes "${g(} $(s\\)"))) ∷ tried_on 2 (RemoveLines (OfAssign (Some 2) (codes "F"))) ∷ on_line 3 (Apply (AddRecipe None (codes "c") (At 1) (codes "# n"))) ∷ Chain (edit_on 4 (ChangeValue (One (Some 0)) (codes "X") (edits.Remove (codes "|")))) (edit_on 6 (SetRecipe None (codes "c") (ByText (codes "# n")) [])) [] ∷ on_line 7 (Apply (AddRecipe None (codes "c") (At 2) (codes "rm -f x"))) ∷ Chain (edit_on 8 (ChangeValue (One None) (codes "X") (edits.Set (codes "a\\:b .PHONY \t$")))) (edit_on 9 (RemoveLines (OfRecipe (Some 1) (codes "c") (ByText (codes "rm -f x"))))) [] ∷ tried_on 10 (AddRecipe None (codes "c") (At 1) (codes "x \\ y")) ∷ [], ends (Refused 1) (codes "8: refused 1 BadArgument value\n") (Some (codes "{;a?+)\r\nc: ;\r\n\tx \\ y\r\n\t\r\n\trm -f x\r\n# n\r\n>a\r\n>rm -f x\r\n${c}: ${g(} $(s\\)\r\n"))) ∷  -- alternatives-387
    (true, 100, codes "c x.o: a\n>t\n>a \\\n\tb\n>rm -rf x\nifdef A\nF=$(u $$\nelse\noverride= a $$# a \\\\\nendif\nF != \n", on_line 1 Begin ∷ on_line 2 (Apply (RenameTarget (codes "x.o") (codes "$$"))) ∷ tried_on 3 (SetRecipe None (codes "$$") (ByText []) (codes "# n")) ∷ on_line 4 (Apply (ChangeValue (One None) (codes "override") (edits.Append (codes "$(t -g)")))) ∷ on_line 5 (Apply (RemoveLines (OfAssign (Some 1) (codes "F")))) ∷ tried_on 6 (ChangeValue (One (Some 2)) (codes "F") (edits.Remove (codes "a\\ b"))) ∷ on_line 7 (Apply (ChangeValue (One None) (codes "override") (edits.Add (codes "-g")))) ∷ [], ends Done [] (Some (codes "c $$: a\n>t\n>a \\\n\tb\n>rm -rf x\nifdef A\nelse\noverride= a $$ $(t -g) -g# a \\\\\nendif\nF != \n"))) ∷  -- alternatives-388
    (true, 100, codes "export X = b ;\\\n\\\n| \nd: a | b\n\ttrue\n\ttrue\n\trm -f x\ninclude: a | b\n\t\ttrue\n\t>a\n\tifdef Q", on_line 1 (Apply (ChangeValue Every (codes "X") (edits.Remove (codes ";")))) ∷ on_line 2 Undo ∷ Chain (edit_on 3 (RemoveLines (OfRecipe (Some 4294967295) (codes "d") (ByText (codes "rm -f x"))))) (edit_on 4 (ChangeValue (One None) (codes "X") (edits.Remove (codes "\\\\a")))) ((edit_on 5 (AddRecipe None (codes "include") (At 4) (codes "rm -f x"))) ∷ (edit_on 7 (ChangeValue (One None) (codes "X") (edits.Remove (codes ";")))) ∷ []) ∷ on_line 8 (Apply (AddRecipe None (codes "d") (At 2) (codes "rm -f x"))) ∷ on_line 9 (Apply (AddRecipe None (codes "d") (At 5) (codes " a"))) ∷ [], ends Done [] (Some (codes "export X = b ;\\\n\\\n| \nd: a | b\n\ttrue\n\trm -f x\n\ttrue\n\trm -f x\n\t a\ninclude: a | b\n\t\ttrue\n\t>a\n\tifdef Q"))) ∷  -- alternatives-389
    (true, 100, codes "=-O2 #-g\nF != ; b# c\nX?= \\\n \\\n \\ $## \r\nF += -g\\\n\ta \n", on_line 1 (Apply (ChangeValue (One None) (codes "X") (edits.Remove (codes "\\ $#")))) ∷ on_line 2 (Apply (RemoveLines (OfAssign (Some 2) (codes "F")))) ∷ tried_on 3 (ChangeValue (One None) (codes "F") (edits.Add (codes "a"))) ∷ on_line 4 Undo ∷ on_line 5 (Apply (AddLine Bottom (NewAssign (codes "a.b") PosixSimple (codes ": $$")))) ∷ on_line 6 (Apply (ChangeValue (One None) (codes "a.b") (edits.Remove (codes ":")))) ∷ [], ends Done [] (Some (codes "=-O2 #-g\nF != ; b# c\nX?= \\\n \\\n # \r\na.b ::= $$\n"))) ∷  -- alternatives-390
    (true, 100, codes "ifdef A\nF ?=  b \\\n    -g \\\n \\\n \nendif\ninclude:: ; true\n>x \\ y\n>a\r", on_line 1 (Apply (ChangeValue (One (Some 1)) (codes "F") (edits.Add (codes "$\\x")))) ∷ on_line 2 (Apply (ChangeValue Every (codes "F") (edits.Append (codes "-g")))) ∷ tried_on 3 (ChangeValue (One (Some 0)) (codes "F") (edits.Append (codes "a:b"))) ∷ on_line 4 (Apply (ChangeValue (One None) (codes "F") (edits.Add (codes "$(t -g)")))) ∷ [], ends Done [] (Some (codes "ifdef A\nF ?=  b \\\n    -g $\\x -g $(t -g) \\\n \\\n \nendif\ninclude:: ; true\n>x \\ y\n>a\r"))) ∷  -- alternatives-391
    (false, 100, codes ".RECIPEPREFIX = >\r\nX = x=1  a -O2\r\n", on_line 1 (Apply (ChangeValue Every (codes "X") (edits.Append (codes "-g -g")))) ∷ on_line 2 (Apply (AddLine (BeforeVar None (codes "X")) (NewRule (codes "$(q:;=|)") Double []))) ∷ on_line 3 (Apply (ChangeValue Every (codes "X") (edits.Append (codes "$(s (b) a)")))) ∷ on_line 4 (Apply (ChangeValue (One None) (codes "X") (edits.Add (codes "$ b")))) ∷ on_line 5 (Apply (ChangeValue (One None) (codes "X") (edits.Remove (codes "a")))) ∷ [], ends Done [] (Some (codes ".RECIPEPREFIX = >\r\n$(q:;=|)::\r\nX = x=1 -O2 -g -g $(s (b) a) $ b\r\n"))) ∷  -- alternatives-392
    (false, 100, codes ".RECIPEPREFIX = >\r\nF:= -O2 $x\\\r\n = -g\\\r\n-g# a \\\\\r\noverride F += \\# \r\nifdef A\r\noverride:=b#-g\r\nelse\r\nF\\\r\n!=| b $\\\\\r\n\tb\r\nendif", tried_on 2 (ChangeValue Every (codes "F") (edits.Remove (codes "="))) ∷ [], ends Done [] (Some (codes ".RECIPEPREFIX = >\r\nF:= -O2 $x -g\\\r\n-g# a \\\\\r\noverride F += \\# \r\nifdef A\r\noverride:=b#-g\r\nelse\r\nF\\\r\n!=| b $\\\\\r\n\tb\r\nendif"))) ∷  -- alternatives-394
    (true, 100, codes "ifdef A\nF= -g  $(t \\\n -g) \\\n    #\nelse\nF\\\n= -g\nendif\nc:: a | b\n\t# n\n \nelse\n\trm -rf x\nifdef A\nX = x=1 a:b a\\ \\\n\\\n\nendif\n", tried_on 1 (ChangeValue (One (Some 2)) (codes "F") (edits.Remove (codes "\\#"))) ∷ on_line 2 (Apply (ChangeValue Every (codes "F") (edits.Add (codes "a$ b")))) ∷ on_line 3 Undo ∷ Chain (edit_on 4 (ChangeValue (One (Some 1)) (codes "override") (edits.Set (codes "$(A -g)")))) (edit_on 5 (SetRecipe None (codes "c") (ByText (codes "# n")) (codes "true"))) [] ∷ on_line 6 (Apply (ChangeValue (One (Some 1)) (codes "F") (edits.Add (codes "$(a b)")))) ∷ Chain (edit_on 7 (ChangeValue (One (Some 2)) (codes "F") (edits.Remove (codes "$(a b)")))) (edit_on 8 (ChangeValue Every (codes "X") (edits.Set (codes "b $(A -g)")))) ((edit_on 10 (SetRecipe None (codes "c") (ByText (codes "ifdef Q")) (codes "a # b"))) ∷ (edit_on 12 (ChangeValue (One (Some 1)) (codes "F") (edits.Remove (codes "$(t -g)")))) ∷ []) ∷ on_line 13 (Apply (RemoveLines (OfAssign (Some 1) (codes "F")))) ∷ tried_on 14 (RemoveLines (OfRecipe None (codes "c") (ByText (codes "a")))) ∷ [], ends Done [] (Some (codes "ifdef A\nelse\nF\\\n= -g\nendif\nc:: a | b\n\ttrue\n \nelse\n\trm -rf x\nifdef A\nX = x=1 a:b a\\ \\\n\\\n\nendif\n"))) ∷  -- alternatives-395
    (false, 100, codes "override!= -g a -g\\\r\n\\\n-g |\nc: ;\ninclude: ; true\nc d:: ;\nF\\\n= b ;#-g\n", on_line 1 (Apply (ChangeValue (One None) (codes "F") (edits.Add (codes "b")))) ∷ on_line 2 (Apply (RemoveLines (OfRecipe (Some 0) (codes "d") (ByText (codes "\ttrue"))))) ∷ Chain (edit_on 3 (RemoveLines (OfRecipe (Some 2) (codes "c") (ByText (codes "ifdef Q"))))) (edit_on 4 (AddRecipe None (codes "d") (At 0) (codes "t"))) [] ∷ tried_on 5 (RemoveLines (OfRecipe None (codes "d") (ByText (codes " a")))) ∷ tried_on 6 (ChangeValue Every (codes "F") (edits.Add (codes "-g"))) ∷ on_line 7 (Apply (SetRecipe (Some 1) (codes "include") (ByText (codes "b")) (codes "b"))) ∷ on_line 8 (Apply (RenameTarget (codes "c") (codes "foo"))) ∷ [], ends (Refused 1) (codes "1: refused 7 Already\n") None) ∷  -- alternatives-396
    (true, 100, codes "X= a \\\r\n \nF = a \\\n \\\n x=1 -g =", Chain (edit_on 1 (ChangeValue (One (Some 0)) (codes "X") (edits.Append (codes "-O2")))) (edit_on 3 (ChangeValue Every (codes "X") (edits.Add (codes "a")))) ((edit_on 4 (ChangeValue (One None) (codes "F") (edits.Remove (codes "-g")))) ∷ []) ∷ [], ends Done [] (Some (codes "X= a \\\r\n \nF = a \\\n \\\n x=1 -g ="))) ∷  -- alternatives-397
    (false, 100, codes "F::= $(a\tb) b# a \\\\\nc:\n\t# n\n\ta\\\\\n\t>a\nF\\\n=-g b\n", on_line 1 Undo ∷ on_line 2 (Apply (ChangeValue (One (Some 2)) (codes "F") (edits.Set []))) ∷ on_line 3 (Apply (ChangeValue Every (codes "F") (edits.Add (codes "$(a\tb)")))) ∷ on_line 4 (Apply (AddRecipe None (codes "c") (At 1) (codes "rm -f x"))) ∷ on_line 5 (Apply (RemoveLines (OfRecipe None (codes "c") (ByText (codes "true"))))) ∷ on_line 6 (Apply (ChangeValue (One (Some 2)) (codes "F") (edits.Append (codes ": ;")))) ∷ on_line 7 Begin ∷ Chain (edit_on 8 (ChangeValue (One (Some 2)) (codes "F") (edits.Remove (codes "$(a b)")))) (edit_on 9 (ChangeValue (One (Some 1)) (codes "F") (edits.Remove (codes "b")))) ((edit_on 10 (AddRecipe (Some 1) (codes "c") (At 2) (codes "rm -rf x"))) ∷ []) ∷ on_line 11 Begin ∷ [], ends (Refused 1) (codes "1: refused 16 NothingToUndo\n") None) ∷  -- alternatives-398
    (true, 100, codes "F = a\nF += -O2 \\ b \\\nb |# \\\n d\noverride :::=\\\r\n$\\\r\n#c \\\n d\n", on_line 1 (Apply (ChangeValue (One (Some 2)) (codes "F") (edits.Remove (codes "\\ b")))) ∷ on_line 2 (Apply (ChangeValue (One (Some 1)) (codes "F") (edits.Append (codes "1 :")))) ∷ [], ends Done [] (Some (codes "F = a 1 :\nF += -O2 \\\nb |# \\\n d\noverride :::=\\\r\n$\\\r\n#c \\\n d\n"))) ∷  -- alternatives-399
    (false, 100, codes "ifdef A\nX\\\n::= ; =\\\na\\  | \nelse\n=F =-O2 \\\n$# \\\r\n $(a\tb) \nendif\nF\\\n= b\nd: ;\n\ta\\\n>b\n\ta\n>b\n\ta # b\n", on_line 1 (Apply (ChangeValue (One None) (codes "X") (edits.Add (codes "-O2")))) ∷ on_line 2 (Apply (ChangeValue (One None) (codes "F") (edits.Remove (codes "b")))) ∷ on_line 3 Undo ∷ [], ends Done [] (Some (codes "ifdef A\nX\\\n::= ; =\\\na\\  | -O2 \nelse\n=F =-O2 \\\n$# \\\r\n $(a\tb) \nendif\nF\\\n= b\nd: ;\n\ta\\\n>b\n\ta\n>b\n\ta # b\n"))) ∷  -- alternatives-400
    []

answers_8 : map (λ row. came_to row.0 row.1 row.2 row.3) rows_8 ≡ map (λ row. row.4) rows_8
unfolding digits
answers_8 = refl
