-- Scripts and what they mean. Made by `tests/definitions/script_rows.py tests/cases/alternatives.tsv`.
use Rattle.std.proofs.Common.{◌≡◌, refl, ℕ, true, false, List, [], ◌∷◌, map, Some, None}
use Rattle.std.specs.Prelude.{codes, Result, Ok, Err}
use Rattle.bstr.specs.Text.{line_len, lines_from}
use Rattle.mk_class.specs.declared.assignment.Flavor.TheVariants.{Recursive, Simple, PosixSimple, Immediate, Conditional, Append, Shell}
use Rattle.mk_edit_language.specs.declared.edit.RuleSeparator.TheVariants.{Single, Double}
use Rattle.mk_edit_language.specs.Edits.{Bottom, BeforeVar, AfterVar, BeforeRule}
use Rattle.mk_edit_language.specs.Edits.{One, Every, NewAssign, NewRule, AddPrereq, RemovePrereq, ByNumber, ByText, Last, At, OfAssign, OfRule, OfRecipe, ChangeValue, ChangePrereqs, AddLine, AddRecipe, SetRecipe, RemoveLines, RenameTarget}
use Rattle.mk_edit_language.specs.Edits as edits
use Rattle.mk_history.specs.Machine.{Apply, Undo, Redo, Begin, End, Cancel}
use Rattle.mk_script.specs.Scripts.{Step, Chain}
use Rattle.mk_rows.proofs.scripts.ScriptReader.{on_line, edit_on, tried_on, read_script}

abbrev rows_1 : List (List ℕ × Result (List Step) ℕ)
rows_1 =
    (codes "set CC clang\nor assign bottom CC = clang\n", Ok (Chain (edit_on 1 (ChangeValue (One None) (codes "CC") (edits.Set (codes "clang")))) (edit_on 2 (AddLine Bottom (NewAssign (codes "CC") Recursive (codes "clang")))) [] ∷ [])) ∷  -- an-alternative-where-the-name-is-missing
    (codes "depend c x\nor rule bottom c : x\n", Ok (Chain (edit_on 1 (ChangePrereqs None (codes "c") (AddPrereq false (codes "x")))) (edit_on 2 (AddLine Bottom (NewRule (codes "c") Single (codes "x")))) [] ∷ [])) ∷  -- what-is-there-already-ends-a-chain
    (codes "set A 1\nor set B 1\n", Ok (Chain (edit_on 1 (ChangeValue (One None) (codes "A") (edits.Set (codes "1")))) (edit_on 2 (ChangeValue (One None) (codes "B") (edits.Set (codes "1")))) [] ∷ [])) ∷  -- the-last-of-a-chain-finds-nothing
    (codes "or set X 2\n", Err 1) ∷  -- an-alternative-that-stands-first
    (codes "try depend c x\ntry undepend c y\ntry unset Q\ntry recipe-del c 1\n", Ok (tried_on 1 (ChangePrereqs None (codes "c") (AddPrereq false (codes "x"))) ∷ tried_on 2 (ChangePrereqs None (codes "c") (RemovePrereq (codes "y"))) ∷ tried_on 3 (RemoveLines (OfAssign None (codes "Q"))) ∷ tried_on 4 (RemoveLines (OfRecipe None (codes "c") (ByNumber 1))) ∷ [])) ∷  -- idle-refusals-behind-try
    (codes "try set X 3\ntry rename c c\ntry depend c \"a b\"\n", Ok (tried_on 1 (ChangeValue (One None) (codes "X") (edits.Set (codes "3"))) ∷ tried_on 2 (RenameTarget (codes "c") (codes "c")) ∷ tried_on 3 (ChangePrereqs None (codes "c") (AddPrereq false (codes "a b"))) ∷ [])) ∷  -- other-refusals-behind-try
    (codes "try set X 2\n", Ok (tried_on 1 (ChangeValue (One None) (codes "X") (edits.Set (codes "2"))) ∷ [])) ∷  -- an-accepted-edit-behind-try
    (codes "undepend c y\nor unrule c\n", Ok (Chain (edit_on 1 (ChangePrereqs None (codes "c") (RemovePrereq (codes "y")))) (edit_on 2 (RemoveLines (OfRule None (codes "c")))) [] ∷ [])) ∷  -- what-is-absent-ends-a-chain
    (codes "undepend c y\n", Ok (on_line 1 (Apply (ChangePrereqs None (codes "c") (RemovePrereq (codes "y")))) ∷ [])) ∷  -- what-is-absent-alone-is-told
    (codes "set X 2\nor set X 3\nor unset X\n", Ok (Chain (edit_on 1 (ChangeValue (One None) (codes "X") (edits.Set (codes "2")))) (edit_on 2 (ChangeValue (One None) (codes "X") (edits.Set (codes "3")))) ((edit_on 3 (RemoveLines (OfAssign None (codes "X")))) ∷ []) ∷ [])) ∷  -- an-accepted-edit-ends-a-chain
    (codes "set A 1\nor depend c x\n", Ok (Chain (edit_on 1 (ChangeValue (One None) (codes "A") (edits.Set (codes "1")))) (edit_on 2 (ChangePrereqs None (codes "c") (AddPrereq false (codes "x")))) [] ∷ [])) ∷  -- the-last-of-a-chain-is-there-already
    (codes "set A 1\nor set X 3\nor assign bottom A = 1\nassign bottom B = 1\n", Ok (Chain (edit_on 1 (ChangeValue (One None) (codes "A") (edits.Set (codes "1")))) (edit_on 2 (ChangeValue (One None) (codes "X") (edits.Set (codes "3")))) ((edit_on 3 (AddLine Bottom (NewAssign (codes "A") Recursive (codes "1")))) ∷ []) ∷ on_line 4 (Apply (AddLine Bottom (NewAssign (codes "B") Recursive (codes "1")))) ∷ [])) ∷  -- a-chain-refused-in-the-middle-goes-no-further
    (codes "set A 1\nor set X 2\nundo\n", Ok (Chain (edit_on 1 (ChangeValue (One None) (codes "A") (edits.Set (codes "1")))) (edit_on 2 (ChangeValue (One None) (codes "X") (edits.Set (codes "2")))) [] ∷ on_line 3 Undo ∷ [])) ∷  -- an-alternative-is-one-edit-for-undo
    (codes "begin\nset A 1\nor assign bottom A = 1\ntry unset Q\nset X 2\nend\nundo\n", Ok (on_line 1 Begin ∷ Chain (edit_on 2 (ChangeValue (One None) (codes "A") (edits.Set (codes "1")))) (edit_on 3 (AddLine Bottom (NewAssign (codes "A") Recursive (codes "1")))) [] ∷ tried_on 4 (RemoveLines (OfAssign None (codes "Q"))) ∷ on_line 5 (Apply (ChangeValue (One None) (codes "X") (edits.Set (codes "2")))) ∷ on_line 6 End ∷ on_line 7 Undo ∷ [])) ∷  -- alternatives-in-a-group
    (codes "set A 1\nor set X 2\nset X 3\nundo\nundo\n", Ok (Chain (edit_on 1 (ChangeValue (One None) (codes "A") (edits.Set (codes "1")))) (edit_on 2 (ChangeValue (One None) (codes "X") (edits.Set (codes "2")))) [] ∷ on_line 3 (Apply (ChangeValue (One None) (codes "X") (edits.Set (codes "3")))) ∷ on_line 4 Undo ∷ on_line 5 Undo ∷ [])) ∷  -- a-chain-counts-once-against-the-depth
    (codes "set X 2\nundo\ntry unset Q\nredo\n", Ok (on_line 1 (Apply (ChangeValue (One None) (codes "X") (edits.Set (codes "2")))) ∷ on_line 2 Undo ∷ tried_on 3 (RemoveLines (OfAssign None (codes "Q"))) ∷ on_line 4 Redo ∷ [])) ∷  -- an-idle-refusal-leaves-what-can-be-redone
    (codes "\n", Ok []) ∷  -- alternatives-001
    (codes "nth\t1\tunset\tX\nnth 4294967295 set F \"\"\n", Ok (on_line 1 (Apply (RemoveLines (OfAssign (Some 1) (codes "X")))) ∷ on_line 2 (Apply (ChangeValue (One (Some 4294967295)) (codes "F") (edits.Set []))) ∷ [])) ∷  -- alternatives-002
    (codes "# or\nundo\nundo\ntry  unset  X\n", Ok (on_line 2 Undo ∷ on_line 3 Undo ∷ tried_on 4 (RemoveLines (OfAssign None (codes "X"))) ∷ [])) ∷  -- alternatives-003
    (codes "redo\n", Ok (on_line 1 Redo ∷ [])) ∷  -- alternatives-004
    (codes " nth 002 \"assign\" before-var X \"-x_9\" != \"c $(f {)\"\n", Ok (on_line 1 (Apply (AddLine (BeforeVar (Some 2) (codes "X")) (NewAssign (codes "-x_9") Shell (codes "c $(f {)")))) ∷ [])) ∷  -- alternatives-005
    (codes "try  nth  \"4294967295\"  set  a.b  \"$ b\"\n", Ok (tried_on 1 (ChangeValue (One (Some 4294967295)) (codes "a.b") (edits.Set (codes "$ b"))) ∷ [])) ∷  -- alternatives-006
    (codes "begin\n", Ok (on_line 1 Begin ∷ [])) ∷  -- alternatives-008
    (codes "nth 2 recipe-del c 001\nundo", Ok (on_line 1 (Apply (RemoveLines (OfRecipe (Some 2) (codes "c") (ByNumber 1)))) ∷ on_line 2 Undo ∷ [])) ∷  -- alternatives-009
    ([], Ok []) ∷  -- alternatives-010
    (codes "set \"F\" \"$ b a\\\\ b\"\r\n", Ok (on_line 1 (Apply (ChangeValue (One None) (codes "F") (edits.Set (codes "$ b a\\ b")))) ∷ [])) ∷  -- alternatives-011
    (codes "undo\n", Ok (on_line 1 Undo ∷ [])) ∷  -- alternatives-012
    (codes "try nth 1 set F 2\nunset F", Ok (tried_on 1 (ChangeValue (One (Some 1)) (codes "F") (edits.Set (codes "2"))) ∷ on_line 2 (Apply (RemoveLines (OfAssign None (codes "F")))) ∷ [])) ∷  -- alternatives-013
    (codes "try \"append\" F \"$ b a$ b\"\n", Ok (tried_on 1 (ChangeValue (One None) (codes "F") (edits.Append (codes "$ b a$ b"))) ∷ [])) ∷  -- alternatives-014
    (codes "nth 3 unset F\r\nassign \"bottom\" override := \"\"\r\n", Ok (on_line 1 (Apply (RemoveLines (OfAssign (Some 3) (codes "F")))) ∷ on_line 2 (Apply (AddLine Bottom (NewAssign (codes "override") Simple []))) ∷ [])) ∷  -- alternatives-015
    (codes "unset  F\n", Ok (on_line 1 (Apply (RemoveLines (OfAssign None (codes "F")))) ∷ [])) ∷  -- alternatives-018
    (codes "nth 4294967295 rule \"after-var\" ifdef $(q:;=|) :: a\r\n or nth 1 recipe $(q:;=|) \"\"", Ok (Chain (edit_on 1 (AddLine (AfterVar (Some 4294967295) (codes "ifdef")) (NewRule (codes "$(q:;=|)") Double (codes "a")))) (edit_on 2 (AddRecipe (Some 1) (codes "$(q:;=|)") Last [])) [] ∷ [])) ∷  -- alternatives-019
    (codes "redo", Ok (on_line 1 Redo ∷ [])) ∷  -- alternatives-020
    (codes "assign \"bottom\" t :::= \"\"\nunset t", Ok (on_line 1 (Apply (AddLine Bottom (NewAssign (codes "t") Immediate []))) ∷ on_line 2 (Apply (RemoveLines (OfAssign None (codes "t")))) ∷ [])) ∷  -- alternatives-021
    (codes "set override a:b\r\n", Ok (on_line 1 (Apply (ChangeValue (One None) (codes "override") (edits.Set (codes "a:b")))) ∷ [])) ∷  -- alternatives-022
    (codes "set F \"\"\n\"rule\" bottom \"$(f {)\" :: c\n", Ok (on_line 1 (Apply (ChangeValue (One None) (codes "F") (edits.Set []))) ∷ on_line 2 (Apply (AddLine Bottom (NewRule (codes "$(f {)") Double (codes "c")))) ∷ [])) ∷  -- alternatives-023
    (codes " assign \"after-var\" CC endef \"!=\" ${c}\r\n", Ok (on_line 1 (Apply (AddLine (AfterVar None (codes "CC")) (NewAssign (codes "endef") Shell (codes "${c}")))) ∷ [])) ∷  -- alternatives-024
    (codes "\"try\" append override $\\x\nundo", Ok (tried_on 1 (ChangeValue (One None) (codes "override") (edits.Append (codes "$\\x"))) ∷ on_line 2 Undo ∷ [])) ∷  -- alternatives-025
    (codes "try recipe c \"\"\nundo\nbegin\n", Ok (tried_on 1 (AddRecipe None (codes "c") Last []) ∷ on_line 2 Undo ∷ on_line 3 Begin ∷ [])) ∷  -- alternatives-026
    (codes "\r\n", Ok []) ∷  -- alternatives-027
    (codes "rule \"bottom\" \"a\" \":\" $$\nundo\n", Ok (on_line 1 (Apply (AddLine Bottom (NewRule (codes "a") Single (codes "$$")))) ∷ on_line 2 Undo ∷ [])) ∷  -- alternatives-029
    (codes " \"unset\" a.b\n", Ok (on_line 1 (Apply (RemoveLines (OfAssign None (codes "a.b")))) ∷ [])) ∷  -- alternatives-030
    (codes "unset F\n", Ok (on_line 1 (Apply (RemoveLines (OfAssign None (codes "F")))) ∷ [])) ∷  -- alternatives-031
    (codes "try nth 1 set F 2\r\nnth \"0\" \"assign\" before-rule d override := x.o\r\nundo\r\n", Ok (tried_on 1 (ChangeValue (One (Some 1)) (codes "F") (edits.Set (codes "2"))) ∷ on_line 2 (Apply (AddLine (BeforeRule (Some 0) (codes "d")) (NewAssign (codes "override") Simple (codes "x.o")))) ∷ on_line 3 Undo ∷ [])) ∷  -- alternatives-032
    (codes "rename c \"$(a b)\"\n", Ok (on_line 1 (Apply (RenameTarget (codes "c") (codes "$(a b)"))) ∷ [])) ∷  -- alternatives-033
    (codes "redo\ntry nth 2 unset \"F\"\nnth  2  \"add\"  F  $x\nadd\t\"F\"\t\"$ b\"\n", Ok (on_line 1 Redo ∷ tried_on 2 (RemoveLines (OfAssign (Some 2) (codes "F"))) ∷ on_line 3 (Apply (ChangeValue (One (Some 2)) (codes "F") (edits.Add (codes "$x")))) ∷ on_line 4 (Apply (ChangeValue (One None) (codes "F") (edits.Add (codes "$ b")))) ∷ [])) ∷  -- alternatives-034
    (codes "recipe-insert c 001 \"ifdef Q\"\nnth  \"002\"  add  \"a\\\\=\"  a:b\nnth 1 append \"F\" -O2\n", Ok (on_line 1 (Apply (AddRecipe None (codes "c") (At 1) (codes "ifdef Q"))) ∷ on_line 2 (Apply (ChangeValue (One (Some 2)) (codes "a\\=") (edits.Add (codes "a:b")))) ∷ on_line 3 (Apply (ChangeValue (One (Some 1)) (codes "F") (edits.Append (codes "-O2")))) ∷ [])) ∷  -- alternatives-035
    (codes "try nth \"0\" recipe-remove c \"rm -rf x\"\r\ntry\tnth\t4294967295\t\"append\"\t\"override\"\t\"$(w a)\"\r\n\"nth\" 001 \"recipe-insert\" c 001 t\r\nrecipe-insert c 1 \"rm -f x\"\r\ntry\trecipe-insert\t\"c\"\t\"3\"\ttrue\r\nor redo\r\ntry  recipe-insert  c  4  \">a\"\r\nrecipe-replace c >a b\r\nrecipe-set \"c\" \"1\" t\r\n", Err 6) ∷  -- alternatives-036
    (codes " \"try\" recipe-replace \"c\" \"rm -f x\" a\nnth 1 recipe-replace x.o \"rm -rf x\" b\nrecipe-insert  c  1  true\n", Ok (tried_on 1 (SetRecipe None (codes "c") (ByText (codes "rm -f x")) (codes "a")) ∷ on_line 2 (Apply (SetRecipe (Some 1) (codes "x.o") (ByText (codes "rm -rf x")) (codes "b"))) ∷ on_line 3 (Apply (AddRecipe None (codes "c") (At 1) (codes "true"))) ∷ [])) ∷  -- alternatives-037
    (codes "nth 1 assign before-rule c t != \"a |\"\nnth 4294967295 \"add\" F \"a$ b\"\nadd \"F\" \"a \"\n\"nth\" 2 recipe-insert c 001 \"ifdef Q\"", Ok (on_line 1 (Apply (AddLine (BeforeRule (Some 1) (codes "c")) (NewAssign (codes "t") Shell (codes "a |")))) ∷ on_line 2 (Apply (ChangeValue (One (Some 4294967295)) (codes "F") (edits.Add (codes "a$ b")))) ∷ on_line 3 (Apply (ChangeValue (One None) (codes "F") (edits.Add (codes "a ")))) ∷ on_line 4 (Apply (AddRecipe (Some 2) (codes "c") (At 1) (codes "ifdef Q"))) ∷ [])) ∷  -- alternatives-038
    []

answers_1 : map (λ row. read_script row.0) rows_1 ≡ map (λ row. row.1) rows_1
unfolding line_len lines_from
answers_1 = refl

abbrev rows_2 : List (List ℕ × Result (List Step) ℕ)
rows_2 =
    (codes "nth 4294967295 recipe-insert \"x.o\" 001 \"ifdef Q\"\n# c\nor recipe-replace \"include\" a\0 a\n\"or\" nth \"001\" set \"F\" -g\n\nor recipe-replace x.o \"rm -f x\" a", Ok (Chain (edit_on 1 (AddRecipe (Some 4294967295) (codes "x.o") (At 1) (codes "ifdef Q"))) (edit_on 3 (SetRecipe None (codes "include") (ByText (codes "a\0")) (codes "a"))) ((edit_on 4 (ChangeValue (One (Some 1)) (codes "F") (edits.Set (codes "-g")))) ∷ (edit_on 6 (SetRecipe None (codes "x.o") (ByText (codes "rm -f x")) (codes "a"))) ∷ []) ∷ [])) ∷  -- alternatives-039
    (codes "nth 4294967295 recipe-replace d true \"x \\\\ y\"\r\nend\r\nundo\r\n", Ok (on_line 1 (Apply (SetRecipe (Some 4294967295) (codes "d") (ByText (codes "true")) (codes "x \\ y"))) ∷ on_line 2 End ∷ on_line 3 Undo ∷ [])) ∷  -- alternatives-040
    (codes "recipe-insert \"c\" 1 \"a\"", Ok (on_line 1 (Apply (AddRecipe None (codes "c") (At 1) (codes "a"))) ∷ [])) ∷  -- alternatives-041
    (codes " recipe-replace c \"rm -f x\" true\ntry \"set\" F \"$(t -g)\"\n\"try\" \"nth\" 1 recipe-remove c \"true\"\nrecipe c \"\"\nrecipe-insert c 1 >a\n", Ok (on_line 1 (Apply (SetRecipe None (codes "c") (ByText (codes "rm -f x")) (codes "true"))) ∷ tried_on 2 (ChangeValue (One None) (codes "F") (edits.Set (codes "$(t -g)"))) ∷ tried_on 3 (RemoveLines (OfRecipe (Some 1) (codes "c") (ByText (codes "true")))) ∷ on_line 4 (Apply (AddRecipe None (codes "c") Last [])) ∷ on_line 5 (Apply (AddRecipe None (codes "c") (At 1) (codes ">a"))) ∷ [])) ∷  -- alternatives-042
    (codes "nth 1 \"assign\" before-var \"F\" endef \"?=\" \"$(f {)\"\nnth 2 add F \"$ b\"\n", Ok (on_line 1 (Apply (AddLine (BeforeVar (Some 1) (codes "F")) (NewAssign (codes "endef") Conditional (codes "$(f {)")))) ∷ on_line 2 (Apply (ChangeValue (One (Some 2)) (codes "F") (edits.Add (codes "$ b")))) ∷ [])) ∷  -- alternatives-043
    (codes "recipe-replace \"d\" \"t\" \"ifdef Q\"\n\nor rule bottom \"$(q:;=|) $(a b)\" : \".PHONY a&b\"\nnth 001 recipe-insert \"$(q:;=|)\" 1 b\nrecipe-replace \"$(a b)\" b \"say \\\"q\\\"\"\ntry \"recipe-remove\" \"$(q:;=|)\" \"say \\\"q\\\"\"\n", Ok (Chain (edit_on 1 (SetRecipe None (codes "d") (ByText (codes "t")) (codes "ifdef Q"))) (edit_on 3 (AddLine Bottom (NewRule (codes "$(q:;=|) $(a b)") Single (codes ".PHONY a&b")))) [] ∷ on_line 4 (Apply (AddRecipe (Some 1) (codes "$(q:;=|)") (At 1) (codes "b"))) ∷ on_line 5 (Apply (SetRecipe None (codes "$(a b)") (ByText (codes "b")) (codes "say \"q\""))) ∷ tried_on 6 (RemoveLines (OfRecipe None (codes "$(q:;=|)") (ByText (codes "say \"q\"")))) ∷ [])) ∷  -- alternatives-044
    (codes "recipe-insert d 001 true", Ok (on_line 1 (Apply (AddRecipe None (codes "d") (At 1) (codes "true"))) ∷ [])) ∷  -- alternatives-045
    (codes " recipe-remove  \"c\"  b\nunset \"F\"\n# c\nor nth \"4294967295\" recipe-insert c 1 >a\nrecipe-insert c -1 x\nundo\ntry \"append\" F ${c}\nrecipe-replace c \"b\" \"ifdef Q\"", Err 5) ∷  -- alternatives-046
    (codes "set \"F\" a\nrecipe-insert c \"3\" \"say \\\"q\\\"\"\nrecipe-remove \"c\" \"# n\"\nrecipe-insert c 4 true\n\"nth\" \"1\" \"add\" F -O2", Ok (on_line 1 (Apply (ChangeValue (One None) (codes "F") (edits.Set (codes "a")))) ∷ on_line 2 (Apply (AddRecipe None (codes "c") (At 3) (codes "say \"q\""))) ∷ on_line 3 (Apply (RemoveLines (OfRecipe None (codes "c") (ByText (codes "# n"))))) ∷ on_line 4 (Apply (AddRecipe None (codes "c") (At 4) (codes "true"))) ∷ on_line 5 (Apply (ChangeValue (One (Some 1)) (codes "F") (edits.Add (codes "-O2")))) ∷ [])) ∷  -- alternatives-047
    (codes "recipe-remove c \"b\"\nrecipe-replace \"c\" \"# n\" \"\ttrue\"\n\"recipe-remove\"  c  \"\ttrue\"\n\"recipe-remove\" c \"say \\\"q\\\"\"\ntry nth \"4294967295\" recipe-replace \"c\" \"\ttrue\" \"true\"\n recipe-insert c 1 \"true\"", Ok (on_line 1 (Apply (RemoveLines (OfRecipe None (codes "c") (ByText (codes "b"))))) ∷ on_line 2 (Apply (SetRecipe None (codes "c") (ByText (codes "# n")) (codes "\ttrue"))) ∷ on_line 3 (Apply (RemoveLines (OfRecipe None (codes "c") (ByText (codes "\ttrue"))))) ∷ on_line 4 (Apply (RemoveLines (OfRecipe None (codes "c") (ByText (codes "say \"q\""))))) ∷ tried_on 5 (SetRecipe (Some 4294967295) (codes "c") (ByText (codes "\ttrue")) (codes "true")) ∷ on_line 6 (Apply (AddRecipe None (codes "c") (At 1) (codes "true"))) ∷ [])) ∷  -- alternatives-048
    (codes "recipe-replace x.o \"rm -f x\" \"true\"\nundo\nrecipe-remove x.o \"rm -f x\"\nundo", Ok (on_line 1 (Apply (SetRecipe None (codes "x.o") (ByText (codes "rm -f x")) (codes "true"))) ∷ on_line 2 Undo ∷ on_line 3 (Apply (RemoveLines (OfRecipe None (codes "x.o") (ByText (codes "rm -f x"))))) ∷ on_line 4 Undo ∷ [])) ∷  -- alternatives-049
    (codes "nth 001 recipe-insert include 001 true\r\nend\r\n\"rule\" before-rule include \"\" : \"t a&b\"\r\nbegin\r\ntry recipe-replace include \"\" \" a\"\r\nnth 0 recipe-insert c 1 a\r\n\"or\" \"recipe-remove\" include true\r\nredo\r\n", Ok (on_line 1 (Apply (AddRecipe (Some 1) (codes "include") (At 1) (codes "true"))) ∷ on_line 2 End ∷ on_line 3 (Apply (AddLine (BeforeRule None (codes "include")) (NewRule [] Single (codes "t a&b")))) ∷ on_line 4 Begin ∷ tried_on 5 (SetRecipe None (codes "include") (ByText []) (codes " a")) ∷ Chain (edit_on 6 (AddRecipe (Some 0) (codes "c") (At 1) (codes "a"))) (edit_on 7 (RemoveLines (OfRecipe None (codes "include") (ByText (codes "true"))))) [] ∷ on_line 8 Redo ∷ [])) ∷  -- alternatives-050
    (codes "\"rule\" \"bottom\" \"$ \" : \"%.o else\"\nrecipe-replace c \"a\0\" \"true\"\n", Ok (on_line 1 (Apply (AddLine Bottom (NewRule (codes "$ ") Single (codes "%.o else")))) ∷ on_line 2 (Apply (SetRecipe None (codes "c") (ByText (codes "a\0")) (codes "true"))) ∷ [])) ∷  -- alternatives-051
    (codes " \"try\" nth \"0\" unset override\n \"recipe-remove\" \"x.o\" \"ifdef Q\"\n", Ok (tried_on 1 (RemoveLines (OfAssign (Some 0) (codes "override"))) ∷ on_line 2 (Apply (RemoveLines (OfRecipe None (codes "x.o") (ByText (codes "ifdef Q"))))) ∷ [])) ∷  -- alternatives-052
    (codes "\"depend-order\"  %.o  ${c}\r\nundo\r\n\"try\"\tundepend\t\"%.o\"\t\"%.c\"\r\ntry  recipe-replace  %.o  \"# n\"  a\r\nrecipe-remove %.o \"ifdef Q\"\r\n or recipe-replace %.o \"a # b\" >a\r\n \r\nor add F x=1\r\nor  recipe-remove  %.o  \"a\"\r\nrecipe-replace %.o a a\r\n", Ok (on_line 1 (Apply (ChangePrereqs None (codes "%.o") (AddPrereq true (codes "${c}")))) ∷ on_line 2 Undo ∷ tried_on 3 (ChangePrereqs None (codes "%.o") (RemovePrereq (codes "%.c"))) ∷ tried_on 4 (SetRecipe None (codes "%.o") (ByText (codes "# n")) (codes "a")) ∷ Chain (edit_on 5 (RemoveLines (OfRecipe None (codes "%.o") (ByText (codes "ifdef Q"))))) (edit_on 6 (SetRecipe None (codes "%.o") (ByText (codes "a # b")) (codes ">a"))) ((edit_on 8 (ChangeValue (One None) (codes "F") (edits.Add (codes "x=1")))) ∷ (edit_on 9 (RemoveLines (OfRecipe None (codes "%.o") (ByText (codes "a"))))) ∷ []) ∷ on_line 10 (Apply (SetRecipe None (codes "%.o") (ByText (codes "a")) (codes "a"))) ∷ [])) ∷  -- alternatives-053
    (codes "try\trecipe\tc\t\"y # z\"\nnth 2 set F \"|\"\n\n or\tnth\t4294967295\tunset\toverride\n\"or\" undepend \"c\" %.c\n\"or\"\trecipe-replace\tc\t\"y # z\"\ttrue\nundo\ntry recipe-insert c 001 \"say \\\"q\\\"\"\nassign \"before-rule\" t Y += \"t ${c}\"\nor recipe-remove c \"say \\\"q\\\"\"\ntry append F \"$ b a\"\n\"recipe-insert\" \"c\" 1 \"a\"\n\"recipe-insert\" c 2 \"say \\\"q\\\"\"\n try unrule c\nrule bottom \"t %.o\" : \"$(a b) b\"", Ok (tried_on 1 (AddRecipe None (codes "c") Last (codes "y # z")) ∷ Chain (edit_on 2 (ChangeValue (One (Some 2)) (codes "F") (edits.Set (codes "|")))) (edit_on 4 (RemoveLines (OfAssign (Some 4294967295) (codes "override")))) ((edit_on 5 (ChangePrereqs None (codes "c") (RemovePrereq (codes "%.c")))) ∷ (edit_on 6 (SetRecipe None (codes "c") (ByText (codes "y # z")) (codes "true"))) ∷ []) ∷ on_line 7 Undo ∷ tried_on 8 (AddRecipe None (codes "c") (At 1) (codes "say \"q\"")) ∷ Chain (edit_on 9 (AddLine (BeforeRule None (codes "t")) (NewAssign (codes "Y") Append (codes "t ${c}")))) (edit_on 10 (RemoveLines (OfRecipe None (codes "c") (ByText (codes "say \"q\""))))) [] ∷ tried_on 11 (ChangeValue (One None) (codes "F") (edits.Append (codes "$ b a"))) ∷ on_line 12 (Apply (AddRecipe None (codes "c") (At 1) (codes "a"))) ∷ on_line 13 (Apply (AddRecipe None (codes "c") (At 2) (codes "say \"q\""))) ∷ tried_on 14 (RemoveLines (OfRule None (codes "c"))) ∷ on_line 15 (Apply (AddLine Bottom (NewRule (codes "t %.o") Single (codes "$(a b) b")))) ∷ [])) ∷  -- alternatives-054
    (codes "try recipe-remove c t\r\n", Ok (tried_on 1 (RemoveLines (OfRecipe None (codes "c") (ByText (codes "t")))) ∷ [])) ∷  -- alternatives-055
    (codes "recipe-insert c 2 >a\nundo\n\"set\" override \"\"\nrecipe-replace d true \"\"\nunset a.b\n# c\nor unset override\nrecipe-insert \"d\" \"003\" \" a\"\nnth 1 \"assign\" before-rule \"d\" override += \"\"\ntry nth 1 set F 2\nundo\n", Ok (on_line 1 (Apply (AddRecipe None (codes "c") (At 2) (codes ">a"))) ∷ on_line 2 Undo ∷ on_line 3 (Apply (ChangeValue (One None) (codes "override") (edits.Set []))) ∷ on_line 4 (Apply (SetRecipe None (codes "d") (ByText (codes "true")) [])) ∷ Chain (edit_on 5 (RemoveLines (OfAssign None (codes "a.b")))) (edit_on 7 (RemoveLines (OfAssign None (codes "override")))) [] ∷ on_line 8 (Apply (AddRecipe None (codes "d") (At 3) (codes " a"))) ∷ on_line 9 (Apply (AddLine (BeforeRule (Some 1) (codes "d")) (NewAssign (codes "override") Append []))) ∷ tried_on 10 (ChangeValue (One (Some 1)) (codes "F") (edits.Set (codes "2"))) ∷ on_line 11 Undo ∷ [])) ∷  -- alternatives-056
    (codes "begin\n nth \"1\" \"add\" override -g\n", Ok (on_line 1 Begin ∷ on_line 2 (Apply (ChangeValue (One (Some 1)) (codes "override") (edits.Add (codes "-g")))) ∷ [])) ∷  -- alternatives-057
    (codes "assign bottom ifdef += \"\"\r\ntry add ifdef -O2\r\n", Ok (on_line 1 (Apply (AddLine Bottom (NewAssign (codes "ifdef") Append []))) ∷ tried_on 2 (ChangeValue (One None) (codes "ifdef") (edits.Add (codes "-O2"))) ∷ [])) ∷  -- alternatives-058
    (codes " try nth \"000\" unset \"F\"\ntry nth 001 \"undepend\" c $x\ntry  \"nth\"  \"001\"  recipe-replace  c  \" a\"  \"ifdef Q\"\nnth 2 recipe-insert \"c\" \"1\" \"a # b\"\nnth \"1\" recipe-replace c \"ifdef Q\" >a\ntry nth 1 set F 2\nnth 1 recipe-insert c 1 b\nor  nth  2  \"recipe-replace\"  \"c\"  \"a # b\"  \"say \\\"q\\\"\"\ntry nth 2 recipe-remove c \"a # b\"\nnth 002 recipe-insert c 1 \" a\"\nnth 1 recipe-insert c 2 \"b\"\n", Ok (tried_on 1 (RemoveLines (OfAssign (Some 0) (codes "F"))) ∷ tried_on 2 (ChangePrereqs (Some 1) (codes "c") (RemovePrereq (codes "$x"))) ∷ tried_on 3 (SetRecipe (Some 1) (codes "c") (ByText (codes " a")) (codes "ifdef Q")) ∷ on_line 4 (Apply (AddRecipe (Some 2) (codes "c") (At 1) (codes "a # b"))) ∷ on_line 5 (Apply (SetRecipe (Some 1) (codes "c") (ByText (codes "ifdef Q")) (codes ">a"))) ∷ tried_on 6 (ChangeValue (One (Some 1)) (codes "F") (edits.Set (codes "2"))) ∷ Chain (edit_on 7 (AddRecipe (Some 1) (codes "c") (At 1) (codes "b"))) (edit_on 8 (SetRecipe (Some 2) (codes "c") (ByText (codes "a # b")) (codes "say \"q\""))) [] ∷ tried_on 9 (RemoveLines (OfRecipe (Some 2) (codes "c") (ByText (codes "a # b")))) ∷ on_line 10 (Apply (AddRecipe (Some 2) (codes "c") (At 1) (codes " a"))) ∷ on_line 11 (Apply (AddRecipe (Some 1) (codes "c") (At 2) (codes "b"))) ∷ [])) ∷  -- alternatives-059
    (codes "set F $\\x\r\n\"nth\" 4294967295 \"recipe-remove\" d a\r\n\r\nor  add  \"+\"  \"=\"", Ok (on_line 1 (Apply (ChangeValue (One None) (codes "F") (edits.Set (codes "$\\x")))) ∷ Chain (edit_on 2 (RemoveLines (OfRecipe (Some 4294967295) (codes "d") (ByText (codes "a"))))) (edit_on 4 (ChangeValue (One None) (codes "+") (edits.Add (codes "=")))) [] ∷ [])) ∷  -- alternatives-060
    (codes "nth\t001\t\"rule\"\tafter-var\tF\t$(q:;=|)\t::\t$(q:;=|)\nundo\nrecipe-remove c a b\n", Err 3) ∷  -- alternatives-061
    (codes "add\tF\t-g\nadd F $x\n", Ok (on_line 1 (Apply (ChangeValue (One None) (codes "F") (edits.Add (codes "-g")))) ∷ on_line 2 (Apply (ChangeValue (One None) (codes "F") (edits.Add (codes "$x")))) ∷ [])) ∷  -- alternatives-062
    (codes " nth 2 add override \"$(t -g)\"\n\n or \"append\" X \"b -g\"", Ok (Chain (edit_on 1 (ChangeValue (One (Some 2)) (codes "override") (edits.Add (codes "$(t -g)")))) (edit_on 3 (ChangeValue (One None) (codes "X") (edits.Append (codes "b -g")))) [] ∷ [])) ∷  -- alternatives-063
    (codes "recipe-remove  d  true\nrecipe-replace c \"# n\" \"# n\"\n \n\"or\" \"recipe-remove\" c \"# n\"\nrecipe-insert c \"4294967295\" \"say \\\"q\\\"\"\n", Ok (on_line 1 (Apply (RemoveLines (OfRecipe None (codes "d") (ByText (codes "true"))))) ∷ Chain (edit_on 2 (SetRecipe None (codes "c") (ByText (codes "# n")) (codes "# n"))) (edit_on 4 (RemoveLines (OfRecipe None (codes "c") (ByText (codes "# n"))))) [] ∷ on_line 5 (Apply (AddRecipe None (codes "c") (At 4294967295) (codes "say \"q\""))) ∷ [])) ∷  -- alternatives-064
    (codes "recipe-set c 4294967295 \"e f \\\\ g\"\nor  \"append\"  F  \"\"\nnth 0 recipe-insert c 1 \"a # b\"\n# c\nor recipe-insert c \"1\" >a\nrecipe-insert c 1 \"a # b\"\nundo\ntry nth \"4294967295\" recipe-insert c 4294967295 a\nrule \"before-var\" F \"$\t\" : \"\"\nappend X \"\"\nnth 1 add a.b \"a\\\\$ \"\nnth 1 recipe \"c\" \"\"\ntry nth 1 set F 2\n", Ok (Chain (edit_on 1 (SetRecipe None (codes "c") (ByNumber 4294967295) (codes "e f \\ g"))) (edit_on 2 (ChangeValue (One None) (codes "F") (edits.Append []))) [] ∷ Chain (edit_on 3 (AddRecipe (Some 0) (codes "c") (At 1) (codes "a # b"))) (edit_on 5 (AddRecipe None (codes "c") (At 1) (codes ">a"))) [] ∷ on_line 6 (Apply (AddRecipe None (codes "c") (At 1) (codes "a # b"))) ∷ on_line 7 Undo ∷ tried_on 8 (AddRecipe (Some 4294967295) (codes "c") (At 4294967295) (codes "a")) ∷ on_line 9 (Apply (AddLine (BeforeVar None (codes "F")) (NewRule (codes "$\t") Single []))) ∷ on_line 10 (Apply (ChangeValue (One None) (codes "X") (edits.Append []))) ∷ on_line 11 (Apply (ChangeValue (One (Some 1)) (codes "a.b") (edits.Add (codes "a\\$ ")))) ∷ on_line 12 (Apply (AddRecipe (Some 1) (codes "c") Last [])) ∷ tried_on 13 (ChangeValue (One (Some 1)) (codes "F") (edits.Set (codes "2"))) ∷ [])) ∷  -- alternatives-065
    (codes "nth\t3\trecipe-insert\tc\t\"1\"\ta\nnth 3 recipe-replace c a true\nnth\t3\trecipe-insert\tc\t2\ttrue\nnth 3 \"unrule\" c\n", Ok (on_line 1 (Apply (AddRecipe (Some 3) (codes "c") (At 1) (codes "a"))) ∷ on_line 2 (Apply (SetRecipe (Some 3) (codes "c") (ByText (codes "a")) (codes "true"))) ∷ on_line 3 (Apply (AddRecipe (Some 3) (codes "c") (At 2) (codes "true"))) ∷ on_line 4 (Apply (RemoveLines (OfRule (Some 3) (codes "c")))) ∷ [])) ∷  -- alternatives-066
    (codes "\"nth\" 1 recipe-replace c \"\ttrue\" \"# n\"\n", Ok (on_line 1 (Apply (SetRecipe (Some 1) (codes "c") (ByText (codes "\ttrue")) (codes "# n"))) ∷ [])) ∷  -- alternatives-067
    (codes "nth  2  set  F  \"\"\r\ntry unset override\r\n\"try\" nth 2 append X x=1\r\ntry \"add\" F b\r\n\"unset\" \"F\"\r\n", Ok (on_line 1 (Apply (ChangeValue (One (Some 2)) (codes "F") (edits.Set []))) ∷ tried_on 2 (RemoveLines (OfAssign None (codes "override"))) ∷ tried_on 3 (ChangeValue (One (Some 2)) (codes "X") (edits.Append (codes "x=1"))) ∷ tried_on 4 (ChangeValue (One None) (codes "F") (edits.Add (codes "b"))) ∷ on_line 5 (Apply (RemoveLines (OfAssign None (codes "F")))) ∷ [])) ∷  -- alternatives-068
    (codes "undo\nadd \"X\" \"$(t -g)\"\n\"try\" nth 001 unset X\nredo\nend", Ok (on_line 1 Undo ∷ on_line 2 (Apply (ChangeValue (One None) (codes "X") (edits.Add (codes "$(t -g)")))) ∷ tried_on 3 (RemoveLines (OfAssign (Some 1) (codes "X"))) ∷ on_line 4 Redo ∷ on_line 5 End ∷ [])) ∷  -- alternatives-069
    (codes "nth \"001\" recipe-insert d 005 \"# n\"\ndepend-order d \"a&b\"\nrecipe-remove d \"# n\"\nnth 1 \"recipe-insert\" c 1 \"ifdef Q\"\n", Ok (on_line 1 (Apply (AddRecipe (Some 1) (codes "d") (At 5) (codes "# n"))) ∷ on_line 2 (Apply (ChangePrereqs None (codes "d") (AddPrereq true (codes "a&b")))) ∷ on_line 3 (Apply (RemoveLines (OfRecipe None (codes "d") (ByText (codes "# n"))))) ∷ on_line 4 (Apply (AddRecipe (Some 1) (codes "c") (At 1) (codes "ifdef Q"))) ∷ [])) ∷  -- alternatives-070
    (codes "recipe-replace  c  \"b\"  \"x \\\\ y\"\nrecipe-insert c 3 \"x \\\\ y\"\n\"recipe-replace\"\tc\t\"\"\t>a\nrecipe-insert  c  003  \" a\"\n\"unset\" a.b\nor recipe-replace c \"x \\\\ y\" true\n \nor append \"F\" =\n\"or\" nth 1 recipe-insert \"c\" 5 \"a # b\"", Ok (on_line 1 (Apply (SetRecipe None (codes "c") (ByText (codes "b")) (codes "x \\ y"))) ∷ on_line 2 (Apply (AddRecipe None (codes "c") (At 3) (codes "x \\ y"))) ∷ on_line 3 (Apply (SetRecipe None (codes "c") (ByText []) (codes ">a"))) ∷ on_line 4 (Apply (AddRecipe None (codes "c") (At 3) (codes " a"))) ∷ Chain (edit_on 5 (RemoveLines (OfAssign None (codes "a.b")))) (edit_on 6 (SetRecipe None (codes "c") (ByText (codes "x \\ y")) (codes "true"))) ((edit_on 8 (ChangeValue (One None) (codes "F") (edits.Append (codes "=")))) ∷ (edit_on 9 (AddRecipe (Some 1) (codes "c") (At 5) (codes "a # b"))) ∷ []) ∷ [])) ∷  -- alternatives-071
    (codes "unset \"F\"\nrecipe-replace\tc\t\"a\"\t\"\"\ntry add override a\n recipe-replace  c  \"ifdef Q\"  a\n\"or\" nth \"2\" recipe-insert x.o \"1\" t\n\"or\" \"recipe-insert\" c 1 \"say \\\"q\\\"\"\nrecipe-replace c \" a\" a\nend\nrecipe-replace c \"\ttrue\" \"rm -f x\"\n", Ok (on_line 1 (Apply (RemoveLines (OfAssign None (codes "F")))) ∷ on_line 2 (Apply (SetRecipe None (codes "c") (ByText (codes "a")) [])) ∷ tried_on 3 (ChangeValue (One None) (codes "override") (edits.Add (codes "a"))) ∷ Chain (edit_on 4 (SetRecipe None (codes "c") (ByText (codes "ifdef Q")) (codes "a"))) (edit_on 5 (AddRecipe (Some 2) (codes "x.o") (At 1) (codes "t"))) ((edit_on 6 (AddRecipe None (codes "c") (At 1) (codes "say \"q\""))) ∷ []) ∷ on_line 7 (Apply (SetRecipe None (codes "c") (ByText (codes " a")) (codes "a"))) ∷ on_line 8 End ∷ on_line 9 (Apply (SetRecipe None (codes "c") (ByText (codes "\ttrue")) (codes "rm -f x"))) ∷ [])) ∷  -- alternatives-072
    (codes "recipe-insert d 001 b\r\n", Ok (on_line 1 (Apply (AddRecipe None (codes "d") (At 1) (codes "b"))) ∷ [])) ∷  -- alternatives-073
    (codes "\"try\"  set  X  \"x$(a  b) |\"\ntry recipe-remove c a\ntry add a\\= \"a\\\\ b\"", Ok (tried_on 1 (ChangeValue (One None) (codes "X") (edits.Set (codes "x$(a  b) |"))) ∷ tried_on 2 (RemoveLines (OfRecipe None (codes "c") (ByText (codes "a")))) ∷ tried_on 3 (ChangeValue (One None) (codes "a\\=") (edits.Add (codes "a\\ b"))) ∷ [])) ∷  -- alternatives-074
    (codes "recipe-replace %.o a\\\\ a\nadd X b\nundo\n\"append\" F a\nnth \"002\" append F \"\\\\\\\\a\"\nor unset a.b\n\"set\" F a:b\n\ncancel", Ok (on_line 1 (Apply (SetRecipe None (codes "%.o") (ByText (codes "a\\\\")) (codes "a"))) ∷ on_line 2 (Apply (ChangeValue (One None) (codes "X") (edits.Add (codes "b")))) ∷ on_line 3 Undo ∷ on_line 4 (Apply (ChangeValue (One None) (codes "F") (edits.Append (codes "a")))) ∷ Chain (edit_on 5 (ChangeValue (One (Some 2)) (codes "F") (edits.Append (codes "\\\\a")))) (edit_on 6 (RemoveLines (OfAssign None (codes "a.b")))) [] ∷ on_line 7 (Apply (ChangeValue (One None) (codes "F") (edits.Set (codes "a:b")))) ∷ on_line 9 Cancel ∷ [])) ∷  -- alternatives-075
    (codes "recipe-insert  c  \"1\"  \"ifdef Q\"\nset\t\"F\"\t\"x$(a  b)\"\n", Ok (on_line 1 (Apply (AddRecipe None (codes "c") (At 1) (codes "ifdef Q"))) ∷ on_line 2 (Apply (ChangeValue (One None) (codes "F") (edits.Set (codes "x$(a  b)")))) ∷ [])) ∷  -- alternatives-076
    (codes "try  nth  2  unrule  c\r\nrecipe-insert  c  1  t\r\nrecipe-insert c 1 \"ifdef Q\"\r\nnth 4294967295 \"recipe-remove\" \"c\" \"t\"\r\n\"or\" recipe-remove c \"t\"\r\nrename c \"%.c\"\r\n\"rename\" \"$x\" \".PHONY\"\r\nor\trecipe-remove\t%.c\t\"ifdef Q\"\r\n", Ok (tried_on 1 (RemoveLines (OfRule (Some 2) (codes "c"))) ∷ on_line 2 (Apply (AddRecipe None (codes "c") (At 1) (codes "t"))) ∷ on_line 3 (Apply (AddRecipe None (codes "c") (At 1) (codes "ifdef Q"))) ∷ Chain (edit_on 4 (RemoveLines (OfRecipe (Some 4294967295) (codes "c") (ByText (codes "t"))))) (edit_on 5 (RemoveLines (OfRecipe None (codes "c") (ByText (codes "t"))))) [] ∷ on_line 6 (Apply (RenameTarget (codes "c") (codes "%.c"))) ∷ Chain (edit_on 7 (RenameTarget (codes "$x") (codes ".PHONY"))) (edit_on 8 (RemoveLines (OfRecipe None (codes "%.c") (ByText (codes "ifdef Q"))))) [] ∷ [])) ∷  -- alternatives-077
    (codes "nth 001 recipe-remove c \"rm -f x\"\n\"recipe-replace\" c true \"rm -f x\"\nundo\ntry \"append\" override \"$(s (b) a)\"\n \"nth\" 001 recipe-replace c \"rm -f x\" \"say \\\"q\\\"\"\n\"try\" nth 001 recipe-remove c \"\ttrue\"\nredo\nnth  2  recipe  c  \"\"\n", Ok (on_line 1 (Apply (RemoveLines (OfRecipe (Some 1) (codes "c") (ByText (codes "rm -f x"))))) ∷ on_line 2 (Apply (SetRecipe None (codes "c") (ByText (codes "true")) (codes "rm -f x"))) ∷ on_line 3 Undo ∷ tried_on 4 (ChangeValue (One None) (codes "override") (edits.Append (codes "$(s (b) a)"))) ∷ on_line 5 (Apply (SetRecipe (Some 1) (codes "c") (ByText (codes "rm -f x")) (codes "say \"q\""))) ∷ tried_on 6 (RemoveLines (OfRecipe (Some 1) (codes "c") (ByText (codes "\ttrue")))) ∷ on_line 7 Redo ∷ on_line 8 (Apply (AddRecipe (Some 2) (codes "c") Last [])) ∷ [])) ∷  -- alternatives-078
    (codes "recipe-remove c a b\n\"recipe-insert\" c 1 a\ntry  append  F  \"|\"\n recipe-remove c a\n", Err 1) ∷  -- alternatives-079
    (codes "try recipe-insert %.o 1 b\ntry  nth  0  \"recipe-remove\"  c  \"x \\\\ y\"\nassign before-rule %.o ifdef ?= t\n", Ok (tried_on 1 (AddRecipe None (codes "%.o") (At 1) (codes "b")) ∷ tried_on 2 (RemoveLines (OfRecipe (Some 0) (codes "c") (ByText (codes "x \\ y")))) ∷ on_line 3 (Apply (AddLine (BeforeRule None (codes "%.o")) (NewAssign (codes "ifdef") Conditional (codes "t")))) ∷ [])) ∷  -- alternatives-080
    (codes "undo\n\"recipe-remove\"  \"d\"  \"rm -f x\"\n\nor recipe-replace d a true\nnth\t001\trecipe-replace\td\ta\t\"\ttrue\"\n\"recipe-insert\" d 0 \"# n\"\nunset X\nnth 2 recipe-replace d t \"a # b\"\n\"or\" recipe-insert d 001 a\nundo\nrecipe-replace d \"\" true\n\"try\" set \"X\" \"\"\n \"try\" \"set\" F \"; $(s (b) a)\"\n", Ok (on_line 1 Undo ∷ Chain (edit_on 2 (RemoveLines (OfRecipe None (codes "d") (ByText (codes "rm -f x"))))) (edit_on 4 (SetRecipe None (codes "d") (ByText (codes "a")) (codes "true"))) [] ∷ on_line 5 (Apply (SetRecipe (Some 1) (codes "d") (ByText (codes "a")) (codes "\ttrue"))) ∷ on_line 6 (Apply (AddRecipe None (codes "d") (At 0) (codes "# n"))) ∷ on_line 7 (Apply (RemoveLines (OfAssign None (codes "X")))) ∷ Chain (edit_on 8 (SetRecipe (Some 2) (codes "d") (ByText (codes "t")) (codes "a # b"))) (edit_on 9 (AddRecipe None (codes "d") (At 1) (codes "a"))) [] ∷ on_line 10 Undo ∷ on_line 11 (Apply (SetRecipe None (codes "d") (ByText []) (codes "true"))) ∷ tried_on 12 (ChangeValue (One None) (codes "X") (edits.Set [])) ∷ tried_on 13 (ChangeValue (One None) (codes "F") (edits.Set (codes "; $(s (b) a)"))) ∷ [])) ∷  -- alternatives-081
    (codes "nth 4294967295 \"recipe-insert\" include \"1\" b\r\nset F \";\"\r\n\r\n\"or\" recipe-replace include \"# n\" \"true\"\r\n", Ok (on_line 1 (Apply (AddRecipe (Some 4294967295) (codes "include") (At 1) (codes "b"))) ∷ Chain (edit_on 2 (ChangeValue (One None) (codes "F") (edits.Set (codes ";")))) (edit_on 4 (SetRecipe None (codes "include") (ByText (codes "# n")) (codes "true"))) [] ∷ [])) ∷  -- alternatives-082
    (codes "redo\nADD F a\nrecipe-insert \"d\" \"1\" a\n\"recipe-del\" d 001", Err 2) ∷  -- alternatives-083
    (codes "\"recipe-remove\" c \"rm -rf x\"\n or  \"unset\"  F\n\"try\" \"unset\" a.b", Ok (Chain (edit_on 1 (RemoveLines (OfRecipe None (codes "c") (ByText (codes "rm -rf x"))))) (edit_on 2 (RemoveLines (OfAssign None (codes "F")))) [] ∷ tried_on 3 (RemoveLines (OfAssign None (codes "a.b"))) ∷ [])) ∷  -- alternatives-084
    (codes "recipe-insert d \"001\" \">a\"\nbegin\nrename \"d\" .PHONY\ntry assign bottom a.b += \"$x\"\n", Ok (on_line 1 (Apply (AddRecipe None (codes "d") (At 1) (codes ">a"))) ∷ on_line 2 Begin ∷ on_line 3 (Apply (RenameTarget (codes "d") (codes ".PHONY"))) ∷ tried_on 4 (AddLine Bottom (NewAssign (codes "a.b") Append (codes "$x"))) ∷ [])) ∷  -- alternatives-085
    (codes "recipe-remove d true\r\nrecipe \"d\" \"e f \\\\ g\"\r\ntry recipe-replace d \" a\" >a\r\nrecipe-replace d \"e f \\\\ g\" \"say \\\"q\\\"\"\r\nrecipe-remove d \"say \\\"q\\\"\"\r\nset \"F\" \"b $x\"\r\n\r\nor recipe-replace d >a \"rm -f x\"", Ok (on_line 1 (Apply (RemoveLines (OfRecipe None (codes "d") (ByText (codes "true"))))) ∷ on_line 2 (Apply (AddRecipe None (codes "d") Last (codes "e f \\ g"))) ∷ tried_on 3 (SetRecipe None (codes "d") (ByText (codes " a")) (codes ">a")) ∷ on_line 4 (Apply (SetRecipe None (codes "d") (ByText (codes "e f \\ g")) (codes "say \"q\""))) ∷ on_line 5 (Apply (RemoveLines (OfRecipe None (codes "d") (ByText (codes "say \"q\""))))) ∷ Chain (edit_on 6 (ChangeValue (One None) (codes "F") (edits.Set (codes "b $x")))) (edit_on 8 (SetRecipe None (codes "d") (ByText (codes ">a")) (codes "rm -f x"))) [] ∷ [])) ∷  -- alternatives-086
    (codes " try nth 1 recipe-insert c 1 \"# n\"\ntry \"assign\" \"bottom\" define != \"$# $(s\\\\)\"", Ok (tried_on 1 (AddRecipe (Some 1) (codes "c") (At 1) (codes "# n")) ∷ tried_on 2 (AddLine Bottom (NewAssign (codes "define") Shell (codes "$# $(s\\)"))) ∷ [])) ∷  -- alternatives-087
    (codes "nth \"1\" recipe-replace c >a \"b\"\r\n \r\nor nth 1 recipe-remove c \"say \\\"q\\\"\"", Ok (Chain (edit_on 1 (SetRecipe (Some 1) (codes "c") (ByText (codes ">a")) (codes "b"))) (edit_on 3 (RemoveLines (OfRecipe (Some 1) (codes "c") (ByText (codes "say \"q\""))))) [] ∷ [])) ∷  -- alternatives-088
    []

answers_2 : map (λ row. read_script row.0) rows_2 ≡ map (λ row. row.1) rows_2
unfolding line_len lines_from
answers_2 = refl

abbrev rows_3 : List (List ℕ × Result (List Step) ℕ)
rows_3 =
    (codes "undo\r\nnth 2 recipe-remove \"$(a b)\" \"true\"", Ok (on_line 1 Undo ∷ on_line 2 (Apply (RemoveLines (OfRecipe (Some 2) (codes "$(a b)") (ByText (codes "true"))))) ∷ [])) ∷  -- alternatives-089
    (codes " try set F \"\\\\# =\"\nset F \"a\"\nadd F \"a\\\\ b\"\nor add \"Y!\" -O2\n", Ok (tried_on 1 (ChangeValue (One None) (codes "F") (edits.Set (codes "\\# ="))) ∷ on_line 2 (Apply (ChangeValue (One None) (codes "F") (edits.Set (codes "a")))) ∷ Chain (edit_on 3 (ChangeValue (One None) (codes "F") (edits.Add (codes "a\\ b")))) (edit_on 4 (ChangeValue (One None) (codes "Y!") (edits.Add (codes "-O2")))) [] ∷ [])) ∷  -- alternatives-090
    (codes "try \"nth\" 1 recipe-del \"d\" 1\nbegin\nnth 4294967295 recipe-insert d \"001\" a\ntry recipe-remove d b\nrecipe-replace\td\t\"\"\ta\n\"set\" a.b \"a\\\\ b $(w a)\"\nrecipe-del d 1\nredo\nrule\tbottom\t\"$(a b)\"\t\":\"\t\"c\"\nnth\t\"4294967295\"\t\"append\"\tF\ta:b", Ok (tried_on 1 (RemoveLines (OfRecipe (Some 1) (codes "d") (ByNumber 1))) ∷ on_line 2 Begin ∷ on_line 3 (Apply (AddRecipe (Some 4294967295) (codes "d") (At 1) (codes "a"))) ∷ tried_on 4 (RemoveLines (OfRecipe None (codes "d") (ByText (codes "b")))) ∷ on_line 5 (Apply (SetRecipe None (codes "d") (ByText []) (codes "a"))) ∷ on_line 6 (Apply (ChangeValue (One None) (codes "a.b") (edits.Set (codes "a\\ b $(w a)")))) ∷ on_line 7 (Apply (RemoveLines (OfRecipe None (codes "d") (ByNumber 1)))) ∷ on_line 8 Redo ∷ on_line 9 (Apply (AddLine Bottom (NewRule (codes "$(a b)") Single (codes "c")))) ∷ on_line 10 (Apply (ChangeValue (One (Some 4294967295)) (codes "F") (edits.Append (codes "a:b")))) ∷ [])) ∷  -- alternatives-091
    (codes "recipe-remove\tc\t\"\ttrue\"\nset F \"\"\ndepend-order  c  ${g(}\n\"try\" recipe-remove c \"x \\\\ y\"\n", Ok (on_line 1 (Apply (RemoveLines (OfRecipe None (codes "c") (ByText (codes "\ttrue"))))) ∷ on_line 2 (Apply (ChangeValue (One None) (codes "F") (edits.Set []))) ∷ on_line 3 (Apply (ChangePrereqs None (codes "c") (AddPrereq true (codes "${g(}")))) ∷ tried_on 4 (RemoveLines (OfRecipe None (codes "c") (ByText (codes "x \\ y")))) ∷ [])) ∷  -- alternatives-092
    (codes "recipe-replace \"$(a b)\" t \"ifdef Q\"\nor recipe-insert \"$(a b)\" 1 \"rm -f x\"\n recipe-replace \"$(a b)\" \"ifdef Q\" \" a\"\n\"depend-order\"\t\"$(a b)\"\t\"$(a b)\"\ntry recipe-insert \"$(a b)\" 1 \"true\"\nrecipe-remove \"$(a b)\" true\nundo\n\"recipe-replace\" \"$(a b)\" true \"b\"\nrecipe-remove \"$(a b)\" b\n", Ok (Chain (edit_on 1 (SetRecipe None (codes "$(a b)") (ByText (codes "t")) (codes "ifdef Q"))) (edit_on 2 (AddRecipe None (codes "$(a b)") (At 1) (codes "rm -f x"))) [] ∷ on_line 3 (Apply (SetRecipe None (codes "$(a b)") (ByText (codes "ifdef Q")) (codes " a"))) ∷ on_line 4 (Apply (ChangePrereqs None (codes "$(a b)") (AddPrereq true (codes "$(a b)")))) ∷ tried_on 5 (AddRecipe None (codes "$(a b)") (At 1) (codes "true")) ∷ on_line 6 (Apply (RemoveLines (OfRecipe None (codes "$(a b)") (ByText (codes "true"))))) ∷ on_line 7 Undo ∷ on_line 8 (Apply (SetRecipe None (codes "$(a b)") (ByText (codes "true")) (codes "b"))) ∷ on_line 9 (Apply (RemoveLines (OfRecipe None (codes "$(a b)") (ByText (codes "b"))))) ∷ [])) ∷  -- alternatives-093
    (codes " recipe d $(\r\ntry recipe-insert \"d\" 004 \">a\"\r\nrecipe-insert d 1 \"x \\\\ y\"\r\n\"rename\" d b\r\n", Ok (on_line 1 (Apply (AddRecipe None (codes "d") Last (codes "$("))) ∷ tried_on 2 (AddRecipe None (codes "d") (At 4) (codes ">a")) ∷ on_line 3 (Apply (AddRecipe None (codes "d") (At 1) (codes "x \\ y"))) ∷ on_line 4 (Apply (RenameTarget (codes "d") (codes "b"))) ∷ [])) ∷  -- alternatives-094
    (codes "redo\nredo\nadd \"F\" \"b\"\n \n\"or\" nth 4294967295 recipe-insert c 1 \"\"\nrecipe-insert \"c\" \"003\" \"true\"\nnth\t4294967295\tadd\tF\t\"$ \"\n", Ok (on_line 1 Redo ∷ on_line 2 Redo ∷ Chain (edit_on 3 (ChangeValue (One None) (codes "F") (edits.Add (codes "b")))) (edit_on 5 (AddRecipe (Some 4294967295) (codes "c") (At 1) [])) [] ∷ on_line 6 (Apply (AddRecipe None (codes "c") (At 3) (codes "true"))) ∷ on_line 7 (Apply (ChangeValue (One (Some 4294967295)) (codes "F") (edits.Add (codes "$ ")))) ∷ [])) ∷  -- alternatives-095
    (codes " set \"override\" \"${g(} foo\"\r\nset X \"\"\r\nrecipe-remove %.o \"x \\\\ y\"\r\n \"nth\" 0 recipe-replace c a \"rm -rf x\"\r\n# c\r\n\"or\" \"recipe-insert\" %.o 1 b\r\nrecipe-replace c \"say \\\"q\\\"\" true\r\ncancel\r\n", Ok (on_line 1 (Apply (ChangeValue (One None) (codes "override") (edits.Set (codes "${g(} foo")))) ∷ on_line 2 (Apply (ChangeValue (One None) (codes "X") (edits.Set []))) ∷ on_line 3 (Apply (RemoveLines (OfRecipe None (codes "%.o") (ByText (codes "x \\ y"))))) ∷ Chain (edit_on 4 (SetRecipe (Some 0) (codes "c") (ByText (codes "a")) (codes "rm -rf x"))) (edit_on 6 (AddRecipe None (codes "%.o") (At 1) (codes "b"))) [] ∷ on_line 7 (Apply (SetRecipe None (codes "c") (ByText (codes "say \"q\"")) (codes "true"))) ∷ on_line 8 Cancel ∷ [])) ∷  -- alternatives-096
    (codes "try  recipe-replace  c  t  true\r\nrecipe-del \"c\" 1\r\ntry \"depend-order\" c \"$(a b)\"\r\nset \"a.b\" -g\r\nrecipe-insert c x\r\n\"recipe-replace\"  c  \" a\"  \"\ttrue\"\r\nundo\r\n\"recipe-replace\" c \" a\" \" a\"\r\n", Err 5) ∷  -- alternatives-097
    (codes "\"nth\"\t\"2\"\tadd\toverride\t=\nnth\t2\t\"recipe-del\"\tc\t0\n \nor \"nth\" \"002\" recipe-insert c 1 \"b\"\n\"recipe-remove\" c \"a # b\"\nrecipe-insert\tc\t0\t\"# n\"\n\n\"or\" nth 000 \"recipe-insert\" c 1 a\nor  \"recipe-replace\"  c  \"\"  \"\"\n# c\nor\trule\tafter-var\toverride\t\"$(f {)\"\t:\t\"$$ else\"\n", Ok (on_line 1 (Apply (ChangeValue (One (Some 2)) (codes "override") (edits.Add (codes "=")))) ∷ Chain (edit_on 2 (RemoveLines (OfRecipe (Some 2) (codes "c") (ByNumber 0)))) (edit_on 4 (AddRecipe (Some 2) (codes "c") (At 1) (codes "b"))) [] ∷ on_line 5 (Apply (RemoveLines (OfRecipe None (codes "c") (ByText (codes "a # b"))))) ∷ Chain (edit_on 6 (AddRecipe None (codes "c") (At 0) (codes "# n"))) (edit_on 8 (AddRecipe (Some 0) (codes "c") (At 1) (codes "a"))) ((edit_on 9 (SetRecipe None (codes "c") (ByText []) [])) ∷ (edit_on 11 (AddLine (AfterVar None (codes "override")) (NewRule (codes "$(f {)") Single (codes "$$ else")))) ∷ []) ∷ [])) ∷  -- alternatives-098
    (codes "\"recipe-insert\" x.o 1 \"# n\"\nrecipe-remove x.o \"# n\"\nrecipe\tx.o\t\">\"\n recipe-replace x.o > \" a\"\ntry recipe-remove x.o \" a\"\n\"recipe\" x.o \"y # z\"\n", Ok (on_line 1 (Apply (AddRecipe None (codes "x.o") (At 1) (codes "# n"))) ∷ on_line 2 (Apply (RemoveLines (OfRecipe None (codes "x.o") (ByText (codes "# n"))))) ∷ on_line 3 (Apply (AddRecipe None (codes "x.o") Last (codes ">"))) ∷ on_line 4 (Apply (SetRecipe None (codes "x.o") (ByText (codes ">")) (codes " a"))) ∷ tried_on 5 (RemoveLines (OfRecipe None (codes "x.o") (ByText (codes " a")))) ∷ on_line 6 (Apply (AddRecipe None (codes "x.o") Last (codes "y # z"))) ∷ [])) ∷  -- alternatives-099
    (codes "\"set\" F \"\"\nrecipe-del\tc\t4294967295\nrecipe-remove c true\n", Ok (on_line 1 (Apply (ChangeValue (One None) (codes "F") (edits.Set []))) ∷ on_line 2 (Apply (RemoveLines (OfRecipe None (codes "c") (ByNumber 4294967295)))) ∷ on_line 3 (Apply (RemoveLines (OfRecipe None (codes "c") (ByText (codes "true"))))) ∷ [])) ∷  -- alternatives-100
    (codes "unset override\n\"recipe-insert\"  d  1  \"a # b\"\nrule before-rule d \"$(q:;=|)\" : \"${c} foo\"\nbegin\n\"nth\"\t\"1\"\t\"recipe-insert\"\t$(q:;=|)\t1\t\"\"\nrecipe-remove $(q:;=|) \"\"\n", Ok (on_line 1 (Apply (RemoveLines (OfAssign None (codes "override")))) ∷ on_line 2 (Apply (AddRecipe None (codes "d") (At 1) (codes "a # b"))) ∷ on_line 3 (Apply (AddLine (BeforeRule None (codes "d")) (NewRule (codes "$(q:;=|)") Single (codes "${c} foo")))) ∷ on_line 4 Begin ∷ on_line 5 (Apply (AddRecipe (Some 1) (codes "$(q:;=|)") (At 1) [])) ∷ on_line 6 (Apply (RemoveLines (OfRecipe None (codes "$(q:;=|)") (ByText [])))) ∷ [])) ∷  -- alternatives-101
    (codes "recipe-set d 002 q:=1\nadd F b\nset X \"-g\"\n \nor nth \"0\" recipe-insert \"d\" 2 true\n\"or\" recipe-remove d \"q:=1\"\nundo\n", Ok (on_line 1 (Apply (SetRecipe None (codes "d") (ByNumber 2) (codes "q:=1"))) ∷ on_line 2 (Apply (ChangeValue (One None) (codes "F") (edits.Add (codes "b")))) ∷ Chain (edit_on 3 (ChangeValue (One None) (codes "X") (edits.Set (codes "-g")))) (edit_on 5 (AddRecipe (Some 0) (codes "d") (At 2) (codes "true"))) ((edit_on 6 (RemoveLines (OfRecipe None (codes "d") (ByText (codes "q:=1"))))) ∷ []) ∷ on_line 7 Undo ∷ [])) ∷  -- alternatives-102
    (codes "\"append\" F a:b\nor recipe-remove d \"\"\n", Ok (Chain (edit_on 1 (ChangeValue (One None) (codes "F") (edits.Append (codes "a:b")))) (edit_on 2 (RemoveLines (OfRecipe None (codes "d") (ByText [])))) [] ∷ [])) ∷  -- alternatives-103
    (codes "nth 001 add F \"a\\\\ \"\n", Ok (on_line 1 (Apply (ChangeValue (One (Some 1)) (codes "F") (edits.Add (codes "a\\ ")))) ∷ [])) ∷  -- alternatives-104
    (codes "try all add F -g\ntry all drop F -W\ntry all set Q 1\ntry all drop F -g\n", Ok (tried_on 1 (ChangeValue Every (codes "F") (edits.Add (codes "-g"))) ∷ tried_on 2 (ChangeValue Every (codes "F") (edits.Remove (codes "-W"))) ∷ tried_on 3 (ChangeValue Every (codes "Q") (edits.Set (codes "1"))) ∷ tried_on 4 (ChangeValue Every (codes "F") (edits.Remove (codes "-g"))) ∷ [])) ∷  -- every-line-behind-try
    (codes "try all add F -g\ntry all add F -g\n", Ok (tried_on 1 (ChangeValue Every (codes "F") (edits.Add (codes "-g"))) ∷ tried_on 2 (ChangeValue Every (codes "F") (edits.Add (codes "-g"))) ∷ [])) ∷  -- every-line-behind-try-a-second-time
    (codes "try all append F -g\n", Ok (tried_on 1 (ChangeValue Every (codes "F") (edits.Append (codes "-g"))) ∷ [])) ∷  -- an-open-value-behind-try-is-told
    (codes "all set CC clang\nor assign bottom CC = clang\n", Ok (Chain (edit_on 1 (ChangeValue Every (codes "CC") (edits.Set (codes "clang")))) (edit_on 2 (AddLine Bottom (NewAssign (codes "CC") Recursive (codes "clang")))) [] ∷ [])) ∷  -- every-line-or-a-new-one
    (codes "all add F -g\nor assign bottom F = -g\n", Ok (Chain (edit_on 1 (ChangeValue Every (codes "F") (edits.Add (codes "-g")))) (edit_on 2 (AddLine Bottom (NewAssign (codes "F") Recursive (codes "-g")))) [] ∷ [])) ∷  -- every-line-has-the-word-ends-a-chain
    (codes "set A 1\nor all set X 3\nor all set Y 4\n", Ok (Chain (edit_on 1 (ChangeValue (One None) (codes "A") (edits.Set (codes "1")))) (edit_on 2 (ChangeValue Every (codes "X") (edits.Set (codes "3")))) ((edit_on 3 (ChangeValue Every (codes "Y") (edits.Set (codes "4")))) ∷ []) ∷ [])) ∷  -- every-line-as-the-last-of-a-chain
    (codes "all set A 1\nor all set B 1\n", Ok (Chain (edit_on 1 (ChangeValue Every (codes "A") (edits.Set (codes "1")))) (edit_on 2 (ChangeValue Every (codes "B") (edits.Set (codes "1")))) [] ∷ [])) ∷  -- every-line-as-the-last-of-a-chain-finds-nothing
    (codes "set A 1\nor all set X 3\nundo\n", Ok (Chain (edit_on 1 (ChangeValue (One None) (codes "A") (edits.Set (codes "1")))) (edit_on 2 (ChangeValue Every (codes "X") (edits.Set (codes "3")))) [] ∷ on_line 3 Undo ∷ [])) ∷  -- every-line-in-a-chain-is-one-edit-for-undo
    (codes "try all set X 2\nor all set X 3\n", Err 2) ∷  -- every-line-behind-try-and-another-word
    (codes "all try set X 2\n", Err 1) ∷  -- all-before-try
    (codes "all drop F \"-g\"\ntry nth 2 drop F a:b\nall\tadd\tF\t-O2\nundo\nnth 1 add F \"$(w a)\"\nnth 1 drop F \"$(w a)\"\n", Ok (on_line 1 (Apply (ChangeValue Every (codes "F") (edits.Remove (codes "-g")))) ∷ tried_on 2 (ChangeValue (One (Some 2)) (codes "F") (edits.Remove (codes "a:b"))) ∷ on_line 3 (Apply (ChangeValue Every (codes "F") (edits.Add (codes "-O2")))) ∷ on_line 4 Undo ∷ on_line 5 (Apply (ChangeValue (One (Some 1)) (codes "F") (edits.Add (codes "$(w a)")))) ∷ on_line 6 (Apply (ChangeValue (One (Some 1)) (codes "F") (edits.Remove (codes "$(w a)")))) ∷ [])) ∷  -- alternatives-105
    (codes "\"try\" assign before-rule \"%.c\" Y != \"a&b\"\nall drop F \"a\"\nbegin\nnth \"0\" set F x=1\n\"or\" nth 0 add \"F\" \"$(A -g)\"\nundo\nunrule \"$(f {)\"\n\nor all drop F -g\n# c\nor  set  override  \"$(A -g) -g\"\n# c\nor \"nth\" 2 \"add\" \"F\" \"a\\\\ b\"\ntry recipe-insert %.o 1 true\n", Ok (tried_on 1 (AddLine (BeforeRule None (codes "%.c")) (NewAssign (codes "Y") Shell (codes "a&b"))) ∷ on_line 2 (Apply (ChangeValue Every (codes "F") (edits.Remove (codes "a")))) ∷ on_line 3 Begin ∷ Chain (edit_on 4 (ChangeValue (One (Some 0)) (codes "F") (edits.Set (codes "x=1")))) (edit_on 5 (ChangeValue (One (Some 0)) (codes "F") (edits.Add (codes "$(A -g)")))) [] ∷ on_line 6 Undo ∷ Chain (edit_on 7 (RemoveLines (OfRule None (codes "$(f {)")))) (edit_on 9 (ChangeValue Every (codes "F") (edits.Remove (codes "-g")))) ((edit_on 11 (ChangeValue (One None) (codes "override") (edits.Set (codes "$(A -g) -g")))) ∷ (edit_on 13 (ChangeValue (One (Some 2)) (codes "F") (edits.Add (codes "a\\ b")))) ∷ []) ∷ tried_on 14 (AddRecipe None (codes "%.o") (At 1) (codes "true")) ∷ [])) ∷  -- alternatives-106
    (codes "\"add\"  CC  b\nrecipe-remove c \"ifdef Q\"\nunset \"F\"\n\"or\" add \"CC\" b\nappend override \"-g $(w a)\"\nor drop CC ${c}\n\"drop\" CC ${c}\n", Ok (on_line 1 (Apply (ChangeValue (One None) (codes "CC") (edits.Add (codes "b")))) ∷ on_line 2 (Apply (RemoveLines (OfRecipe None (codes "c") (ByText (codes "ifdef Q"))))) ∷ Chain (edit_on 3 (RemoveLines (OfAssign None (codes "F")))) (edit_on 4 (ChangeValue (One None) (codes "CC") (edits.Add (codes "b")))) [] ∷ Chain (edit_on 5 (ChangeValue (One None) (codes "override") (edits.Append (codes "-g $(w a)")))) (edit_on 6 (ChangeValue (One None) (codes "CC") (edits.Remove (codes "${c}")))) [] ∷ on_line 7 (Apply (ChangeValue (One None) (codes "CC") (edits.Remove (codes "${c}")))) ∷ [])) ∷  -- alternatives-107
    (codes "nth 001 \"drop\" F -O2\n", Ok (on_line 1 (Apply (ChangeValue (One (Some 1)) (codes "F") (edits.Remove (codes "-O2")))) ∷ [])) ∷  -- alternatives-108
    (codes "try all drop F =\nnth 1 add F $\\x\n \nor \"nth\" \"2\" drop F -g\nnth 001 unset F\nend\nredo\nredo\nend\ntry\tnth\t2\tdrop\tF\t-g\ndrop\tF\ta", Ok (tried_on 1 (ChangeValue Every (codes "F") (edits.Remove (codes "="))) ∷ Chain (edit_on 2 (ChangeValue (One (Some 1)) (codes "F") (edits.Add (codes "$\\x")))) (edit_on 4 (ChangeValue (One (Some 2)) (codes "F") (edits.Remove (codes "-g")))) [] ∷ on_line 5 (Apply (RemoveLines (OfAssign (Some 1) (codes "F")))) ∷ on_line 6 End ∷ on_line 7 Redo ∷ on_line 8 Redo ∷ on_line 9 End ∷ tried_on 10 (ChangeValue (One (Some 2)) (codes "F") (edits.Remove (codes "-g"))) ∷ on_line 11 (Apply (ChangeValue (One None) (codes "F") (edits.Remove (codes "a")))) ∷ [])) ∷  -- alternatives-109
    (codes "\"try\" set \"a.b\" a\n try\tdrop\t\"F\"\ta\nadd\tF\tb\nbegin\nadd F \\#\nadd F \"$(s (b) a)\"\nadd F \"a\"\n", Ok (tried_on 1 (ChangeValue (One None) (codes "a.b") (edits.Set (codes "a"))) ∷ tried_on 2 (ChangeValue (One None) (codes "F") (edits.Remove (codes "a"))) ∷ on_line 3 (Apply (ChangeValue (One None) (codes "F") (edits.Add (codes "b")))) ∷ on_line 4 Begin ∷ on_line 5 (Apply (ChangeValue (One None) (codes "F") (edits.Add (codes "\\#")))) ∷ on_line 6 (Apply (ChangeValue (One None) (codes "F") (edits.Add (codes "$(s (b) a)")))) ∷ on_line 7 (Apply (ChangeValue (One None) (codes "F") (edits.Add (codes "a")))) ∷ [])) ∷  -- alternatives-110
    (codes "\"undepend\"  d  x.o\nundepend \"$(f {)\" d\n# or\n\"try\" \"drop\" F \"$(u  a \"\nadd F \"$(u  a \"\nall drop F \"$(u  a \"\ntry recipe-remove \"d\" a\ndrop F \"$(u  a \"\ntry \"unrule\" d", Ok (on_line 1 (Apply (ChangePrereqs None (codes "d") (RemovePrereq (codes "x.o")))) ∷ on_line 2 (Apply (ChangePrereqs None (codes "$(f {)") (RemovePrereq (codes "d")))) ∷ tried_on 4 (ChangeValue (One None) (codes "F") (edits.Remove (codes "$(u  a "))) ∷ on_line 5 (Apply (ChangeValue (One None) (codes "F") (edits.Add (codes "$(u  a ")))) ∷ on_line 6 (Apply (ChangeValue Every (codes "F") (edits.Remove (codes "$(u  a ")))) ∷ tried_on 7 (RemoveLines (OfRecipe None (codes "d") (ByText (codes "a")))) ∷ on_line 8 (Apply (ChangeValue (One None) (codes "F") (edits.Remove (codes "$(u  a ")))) ∷ tried_on 9 (RemoveLines (OfRule None (codes "d"))) ∷ [])) ∷  -- alternatives-111
    (codes "\"try\"\tunset\tX\n\"try\"\tappend\t\"ifdef\"\t\"\"\ndrop a.b a\nunset a.b\nadd X =\n# c\nor all add \"override\" \"b\"\n# c\nor assign \"bottom\" a.b ?= \"\"\n\"set\" \"a.b\" \"$(f {) b\"\ntry drop a.b \"$(f {)\"\nappend a.b -include2", Ok (tried_on 1 (RemoveLines (OfAssign None (codes "X"))) ∷ tried_on 2 (ChangeValue (One None) (codes "ifdef") (edits.Append [])) ∷ on_line 3 (Apply (ChangeValue (One None) (codes "a.b") (edits.Remove (codes "a")))) ∷ on_line 4 (Apply (RemoveLines (OfAssign None (codes "a.b")))) ∷ Chain (edit_on 5 (ChangeValue (One None) (codes "X") (edits.Add (codes "=")))) (edit_on 7 (ChangeValue Every (codes "override") (edits.Add (codes "b")))) ((edit_on 9 (AddLine Bottom (NewAssign (codes "a.b") Conditional []))) ∷ []) ∷ on_line 10 (Apply (ChangeValue (One None) (codes "a.b") (edits.Set (codes "$(f {) b")))) ∷ tried_on 11 (ChangeValue (One None) (codes "a.b") (edits.Remove (codes "$(f {)"))) ∷ on_line 12 (Apply (ChangeValue (One None) (codes "a.b") (edits.Append (codes "-include2")))) ∷ [])) ∷  -- alternatives-112
    (codes "set a.b \"%.c\"\nundo\nall set a.b -g\ntry \"all\" \"drop\" a.b -g\nall append a.b \"-O2 a\\\\ b\"\n", Ok (on_line 1 (Apply (ChangeValue (One None) (codes "a.b") (edits.Set (codes "%.c")))) ∷ on_line 2 Undo ∷ on_line 3 (Apply (ChangeValue Every (codes "a.b") (edits.Set (codes "-g")))) ∷ tried_on 4 (ChangeValue Every (codes "a.b") (edits.Remove (codes "-g"))) ∷ on_line 5 (Apply (ChangeValue Every (codes "a.b") (edits.Append (codes "-O2 a\\ b")))) ∷ [])) ∷  -- alternatives-113
    (codes "nth 1 set F $(s\\)\n# c\n\"or\" nth \"2\" unset F\ntry \"all\" drop F a\nnth 1 add F -g\nall \"drop\" \"F\" \"$(s\\\\)\"\nnth 1 drop \"F\" -g\n all set \"F\" \"a b \\\\#\"\nall set F \"a\\\\ b\"\nnth 1 drop \"F\" \"a\\\\ b\"\ndrop F \"a\\\\ b\"\n\nor unset CC\n \nor nth 1 drop F |\nor\tall\tappend\tF\t\"$(A -g) $(s (b) a)\"", Ok (Chain (edit_on 1 (ChangeValue (One (Some 1)) (codes "F") (edits.Set (codes "$(s\\)")))) (edit_on 3 (RemoveLines (OfAssign (Some 2) (codes "F")))) [] ∷ tried_on 4 (ChangeValue Every (codes "F") (edits.Remove (codes "a"))) ∷ on_line 5 (Apply (ChangeValue (One (Some 1)) (codes "F") (edits.Add (codes "-g")))) ∷ on_line 6 (Apply (ChangeValue Every (codes "F") (edits.Remove (codes "$(s\\)")))) ∷ on_line 7 (Apply (ChangeValue (One (Some 1)) (codes "F") (edits.Remove (codes "-g")))) ∷ on_line 8 (Apply (ChangeValue Every (codes "F") (edits.Set (codes "a b \\#")))) ∷ on_line 9 (Apply (ChangeValue Every (codes "F") (edits.Set (codes "a\\ b")))) ∷ on_line 10 (Apply (ChangeValue (One (Some 1)) (codes "F") (edits.Remove (codes "a\\ b")))) ∷ Chain (edit_on 11 (ChangeValue (One None) (codes "F") (edits.Remove (codes "a\\ b")))) (edit_on 13 (RemoveLines (OfAssign None (codes "CC")))) ((edit_on 15 (ChangeValue (One (Some 1)) (codes "F") (edits.Remove (codes "|")))) ∷ (edit_on 16 (ChangeValue Every (codes "F") (edits.Append (codes "$(A -g) $(s (b) a)")))) ∷ []) ∷ [])) ∷  -- alternatives-114
    (codes "rule before-rule ${g(} t :: \"x.o\"\n or all drop X b\n\"all\" \"drop\" \"F\" \"-g\"\nor drop X \"a:b\"\nor \"all\" append X \"\"\ndrop \"X\" \"$x\"\n# c\nor \"all\" add \"X\" \"${c}\"\n try  all  drop  X  -g\nall append X $\\\n", Ok (Chain (edit_on 1 (AddLine (BeforeRule None (codes "${g(}")) (NewRule (codes "t") Double (codes "x.o")))) (edit_on 2 (ChangeValue Every (codes "X") (edits.Remove (codes "b")))) [] ∷ Chain (edit_on 3 (ChangeValue Every (codes "F") (edits.Remove (codes "-g")))) (edit_on 4 (ChangeValue (One None) (codes "X") (edits.Remove (codes "a:b")))) ((edit_on 5 (ChangeValue Every (codes "X") (edits.Append []))) ∷ []) ∷ Chain (edit_on 6 (ChangeValue (One None) (codes "X") (edits.Remove (codes "$x")))) (edit_on 8 (ChangeValue Every (codes "X") (edits.Add (codes "${c}")))) [] ∷ tried_on 9 (ChangeValue Every (codes "X") (edits.Remove (codes "-g"))) ∷ on_line 10 (Apply (ChangeValue Every (codes "X") (edits.Append (codes "$\\")))) ∷ [])) ∷  -- alternatives-115
    (codes "all drop \"F\" a\nnth \"001\" drop F $#\nall append F \"$(A -g)\"\nnth \"002\" \"append\" F b\n", Ok (on_line 1 (Apply (ChangeValue Every (codes "F") (edits.Remove (codes "a")))) ∷ on_line 2 (Apply (ChangeValue (One (Some 1)) (codes "F") (edits.Remove (codes "$#")))) ∷ on_line 3 (Apply (ChangeValue Every (codes "F") (edits.Append (codes "$(A -g)")))) ∷ on_line 4 (Apply (ChangeValue (One (Some 2)) (codes "F") (edits.Append (codes "b")))) ∷ [])) ∷  -- alternatives-116
    (codes "nth 4294967295 recipe-insert \"c\" \"1\" a\nset X |\n\nor \"recipe-replace\" c \"x \\\\ y\" \"rm -f x\"\nor \"nth\" \"4294967295\" add override b\n\nor recipe-replace \"c\" \"\" \"x \\\\ y\"\n\"add\" override \"-O2\"\n\"drop\" override -O2\nundo\n\"nth\" 0 recipe-remove c a\n or drop override \"$(A -g)\"\n \"or\" add override \"-g\"\n\"or\" all drop override -g\n\"recipe-insert\" c 3 true\n", Ok (on_line 1 (Apply (AddRecipe (Some 4294967295) (codes "c") (At 1) (codes "a"))) ∷ Chain (edit_on 2 (ChangeValue (One None) (codes "X") (edits.Set (codes "|")))) (edit_on 4 (SetRecipe None (codes "c") (ByText (codes "x \\ y")) (codes "rm -f x"))) ((edit_on 5 (ChangeValue (One (Some 4294967295)) (codes "override") (edits.Add (codes "b")))) ∷ (edit_on 7 (SetRecipe None (codes "c") (ByText []) (codes "x \\ y"))) ∷ []) ∷ on_line 8 (Apply (ChangeValue (One None) (codes "override") (edits.Add (codes "-O2")))) ∷ on_line 9 (Apply (ChangeValue (One None) (codes "override") (edits.Remove (codes "-O2")))) ∷ on_line 10 Undo ∷ Chain (edit_on 11 (RemoveLines (OfRecipe (Some 0) (codes "c") (ByText (codes "a"))))) (edit_on 12 (ChangeValue (One None) (codes "override") (edits.Remove (codes "$(A -g)")))) ((edit_on 13 (ChangeValue (One None) (codes "override") (edits.Add (codes "-g")))) ∷ (edit_on 14 (ChangeValue Every (codes "override") (edits.Remove (codes "-g")))) ∷ []) ∷ on_line 15 (Apply (AddRecipe None (codes "c") (At 3) (codes "true"))) ∷ [])) ∷  -- alternatives-117
    (codes "\"recipe-insert\"  c  1  a\n\nor nth 3 \"add\" F a\nbegin\ntry\t\"unset\"\tX\nnth\t3\tadd\t\"F\"\t$x\n\"nth\"  3  drop  \"F\"  =\n nth \"1\" \"add\" F \"$(t -g)\"\n\"or\" all drop X \\#\nor nth 1 recipe-remove \"c\" a\nor\tnth\t002\tadd\tF\tb\n", Ok (Chain (edit_on 1 (AddRecipe None (codes "c") (At 1) (codes "a"))) (edit_on 3 (ChangeValue (One (Some 3)) (codes "F") (edits.Add (codes "a")))) [] ∷ on_line 4 Begin ∷ tried_on 5 (RemoveLines (OfAssign None (codes "X"))) ∷ on_line 6 (Apply (ChangeValue (One (Some 3)) (codes "F") (edits.Add (codes "$x")))) ∷ on_line 7 (Apply (ChangeValue (One (Some 3)) (codes "F") (edits.Remove (codes "=")))) ∷ Chain (edit_on 8 (ChangeValue (One (Some 1)) (codes "F") (edits.Add (codes "$(t -g)")))) (edit_on 9 (ChangeValue Every (codes "X") (edits.Remove (codes "\\#")))) ((edit_on 10 (RemoveLines (OfRecipe (Some 1) (codes "c") (ByText (codes "a"))))) ∷ (edit_on 11 (ChangeValue (One (Some 2)) (codes "F") (edits.Add (codes "b")))) ∷ []) ∷ [])) ∷  -- alternatives-118
    (codes "set \"F\" \"c $(a b)\"\r\ntry drop F \"$(a b)\"\r\ntry\t\"recipe-replace\"\t\"c\"\tt\t\" a\"\r\ntry  nth  0  add  F  c\r\n", Ok (on_line 1 (Apply (ChangeValue (One None) (codes "F") (edits.Set (codes "c $(a b)")))) ∷ tried_on 2 (ChangeValue (One None) (codes "F") (edits.Remove (codes "$(a b)"))) ∷ tried_on 3 (SetRecipe None (codes "c") (ByText (codes "t")) (codes " a")) ∷ tried_on 4 (ChangeValue (One (Some 0)) (codes "F") (edits.Add (codes "c"))) ∷ [])) ∷  -- alternatives-119
    (codes "nth 1 append F \"\"\n \"or\" add override \"x$(a  b)\"\nor all drop F \"-g\"\n\nor add X -O2\nnth \"1\" append \"X\" \"| $x\"\nall \"drop\" a.b \"a$ b\"\nor  nth  2  drop  F  \"-g\"\n\"all\" set X $\\x\nbegin\nall drop \"F\" b\n\"all\"\tadd\tF\tb\nnth 002 add \"F\" ${c}", Ok (Chain (edit_on 1 (ChangeValue (One (Some 1)) (codes "F") (edits.Append []))) (edit_on 2 (ChangeValue (One None) (codes "override") (edits.Add (codes "x$(a  b)")))) ((edit_on 3 (ChangeValue Every (codes "F") (edits.Remove (codes "-g")))) ∷ (edit_on 5 (ChangeValue (One None) (codes "X") (edits.Add (codes "-O2")))) ∷ []) ∷ on_line 6 (Apply (ChangeValue (One (Some 1)) (codes "X") (edits.Append (codes "| $x")))) ∷ Chain (edit_on 7 (ChangeValue Every (codes "a.b") (edits.Remove (codes "a$ b")))) (edit_on 8 (ChangeValue (One (Some 2)) (codes "F") (edits.Remove (codes "-g")))) [] ∷ on_line 9 (Apply (ChangeValue Every (codes "X") (edits.Set (codes "$\\x")))) ∷ on_line 10 Begin ∷ on_line 11 (Apply (ChangeValue Every (codes "F") (edits.Remove (codes "b")))) ∷ on_line 12 (Apply (ChangeValue Every (codes "F") (edits.Add (codes "b")))) ∷ on_line 13 (Apply (ChangeValue (One (Some 2)) (codes "F") (edits.Add (codes "${c}")))) ∷ [])) ∷  -- alternatives-120
    (codes "nth 001 drop F \"\\\\#\"\n \nor nth 1 add \"F\" \"a$ b\"\nor\t\"nth\"\t2\tdrop\ta.b\t-g\nor all \"add\" \"F\" \"$(t -g)\"\nrule after-var a.b -include2 :: $(s\\)\nundo\nredo\nrecipe-remove -include2 \" a\"\nall  add  F  -O2\nset X a:b\n# c\nor nth 002 add F -g\ntry  nth  1  drop  F  b\n", Ok (Chain (edit_on 1 (ChangeValue (One (Some 1)) (codes "F") (edits.Remove (codes "\\#")))) (edit_on 3 (ChangeValue (One (Some 1)) (codes "F") (edits.Add (codes "a$ b")))) ((edit_on 4 (ChangeValue (One (Some 2)) (codes "a.b") (edits.Remove (codes "-g")))) ∷ (edit_on 5 (ChangeValue Every (codes "F") (edits.Add (codes "$(t -g)")))) ∷ []) ∷ on_line 6 (Apply (AddLine (AfterVar None (codes "a.b")) (NewRule (codes "-include2") Double (codes "$(s\\)")))) ∷ on_line 7 Undo ∷ on_line 8 Redo ∷ on_line 9 (Apply (RemoveLines (OfRecipe None (codes "-include2") (ByText (codes " a"))))) ∷ on_line 10 (Apply (ChangeValue Every (codes "F") (edits.Add (codes "-O2")))) ∷ Chain (edit_on 11 (ChangeValue (One None) (codes "X") (edits.Set (codes "a:b")))) (edit_on 13 (ChangeValue (One (Some 2)) (codes "F") (edits.Add (codes "-g")))) [] ∷ tried_on 14 (ChangeValue (One (Some 1)) (codes "F") (edits.Remove (codes "b"))) ∷ [])) ∷  -- alternatives-121
    (codes " \t\ntry \"recipe-insert\" %.o 4294967295 \"say \\\"q\\\"\"\nrecipe-remove %.o \" a\"\n\nor nth 001 set F ;\n\"or\" \"append\" \"F\" \"a\\\\:b :\"\n\nor nth 000 add \"$(X)\" \"a\"\nadd F \"-g\"\n\"or\" nth 2 recipe-remove \"%.o\" true\n# c\nor recipe-set %.o 002 t\n \nor nth \"1\" \"drop\" F a\nrecipe-replace x.o \"\ttrue\" \"a # b\"\nrecipe-del %.o 1\n", Ok (tried_on 2 (AddRecipe None (codes "%.o") (At 4294967295) (codes "say \"q\"")) ∷ Chain (edit_on 3 (RemoveLines (OfRecipe None (codes "%.o") (ByText (codes " a"))))) (edit_on 5 (ChangeValue (One (Some 1)) (codes "F") (edits.Set (codes ";")))) ((edit_on 6 (ChangeValue (One None) (codes "F") (edits.Append (codes "a\\:b :")))) ∷ (edit_on 8 (ChangeValue (One (Some 0)) (codes "$(X)") (edits.Add (codes "a")))) ∷ []) ∷ Chain (edit_on 9 (ChangeValue (One None) (codes "F") (edits.Add (codes "-g")))) (edit_on 10 (RemoveLines (OfRecipe (Some 2) (codes "%.o") (ByText (codes "true"))))) ((edit_on 12 (SetRecipe None (codes "%.o") (ByNumber 2) (codes "t"))) ∷ (edit_on 14 (ChangeValue (One (Some 1)) (codes "F") (edits.Remove (codes "a")))) ∷ []) ∷ on_line 15 (Apply (SetRecipe None (codes "x.o") (ByText (codes "\ttrue")) (codes "a # b"))) ∷ on_line 16 (Apply (RemoveLines (OfRecipe None (codes "%.o") (ByNumber 1)))) ∷ [])) ∷  -- alternatives-122
    (codes "unset X\n# c\n\"or\" nth 1 recipe-insert \"c\" 2 \"x \\\\ y\"\nrecipe-remove  \"include\"  >a\nnth 1 recipe \"c\" define\ntry all drop F -g\nrecipe-replace d \"say \\\"q\\\"\" \"true\"\nunset a.b\nredo\n recipe-insert  include  \"2\"  \"rm -f x\"\nnth 1 \"append\" F \"a:b $ b\"", Ok (Chain (edit_on 1 (RemoveLines (OfAssign None (codes "X")))) (edit_on 3 (AddRecipe (Some 1) (codes "c") (At 2) (codes "x \\ y"))) [] ∷ on_line 4 (Apply (RemoveLines (OfRecipe None (codes "include") (ByText (codes ">a"))))) ∷ on_line 5 (Apply (AddRecipe (Some 1) (codes "c") Last (codes "define"))) ∷ tried_on 6 (ChangeValue Every (codes "F") (edits.Remove (codes "-g"))) ∷ on_line 7 (Apply (SetRecipe None (codes "d") (ByText (codes "say \"q\"")) (codes "true"))) ∷ on_line 8 (Apply (RemoveLines (OfAssign None (codes "a.b")))) ∷ on_line 9 Redo ∷ on_line 10 (Apply (AddRecipe None (codes "include") (At 2) (codes "rm -f x"))) ∷ on_line 11 (Apply (ChangeValue (One (Some 1)) (codes "F") (edits.Append (codes "a:b $ b")))) ∷ [])) ∷  -- alternatives-123
    (codes "all append F =\r\nor nth 4294967295 \"drop\" F ;\r\n\r\nor nth 2 set X \"$(A -g)\"\r\nor all add \"F\" ;\r\nadd \"F\" \\\\a\r\nadd F |\r\n\"drop\" F \"${c}\"\r\nor \"add\" F \"$(a b)\"\r\nrule before-var F b : a\r\nset F \"$(w a)\"\r\nrecipe-insert  b  1  b\r\n", Ok (Chain (edit_on 1 (ChangeValue Every (codes "F") (edits.Append (codes "=")))) (edit_on 2 (ChangeValue (One (Some 4294967295)) (codes "F") (edits.Remove (codes ";")))) ((edit_on 4 (ChangeValue (One (Some 2)) (codes "X") (edits.Set (codes "$(A -g)")))) ∷ (edit_on 5 (ChangeValue Every (codes "F") (edits.Add (codes ";")))) ∷ []) ∷ on_line 6 (Apply (ChangeValue (One None) (codes "F") (edits.Add (codes "\\\\a")))) ∷ on_line 7 (Apply (ChangeValue (One None) (codes "F") (edits.Add (codes "|")))) ∷ Chain (edit_on 8 (ChangeValue (One None) (codes "F") (edits.Remove (codes "${c}")))) (edit_on 9 (ChangeValue (One None) (codes "F") (edits.Add (codes "$(a b)")))) [] ∷ on_line 10 (Apply (AddLine (BeforeVar None (codes "F")) (NewRule (codes "b") Single (codes "a")))) ∷ on_line 11 (Apply (ChangeValue (One None) (codes "F") (edits.Set (codes "$(w a)")))) ∷ on_line 12 (Apply (AddRecipe None (codes "b") (At 1) (codes "b"))) ∷ [])) ∷  -- alternatives-124
    (codes "drop F -g\n or unrule \"a&b\"\n\"try\" \"append\" F \"= x$(a  b)\"\n\"all\" set F ;\nall set \"X\" \"\"\nundo\n", Ok (Chain (edit_on 1 (ChangeValue (One None) (codes "F") (edits.Remove (codes "-g")))) (edit_on 2 (RemoveLines (OfRule None (codes "a&b")))) [] ∷ tried_on 3 (ChangeValue (One None) (codes "F") (edits.Append (codes "= x$(a  b)"))) ∷ on_line 4 (Apply (ChangeValue Every (codes "F") (edits.Set (codes ";")))) ∷ on_line 5 (Apply (ChangeValue Every (codes "X") (edits.Set []))) ∷ on_line 6 Undo ∷ [])) ∷  -- alternatives-125
    (codes "add a\\= |\r\nassign bottom t \"=\" |\r\n\"all\" drop F \"-g\"\r\n# or\r\nnth  2  drop  t  \"|\"\r\nunset a.b\r\n# c\r\n\"or\" add CC a\\\r\n", Ok (on_line 1 (Apply (ChangeValue (One None) (codes "a\\=") (edits.Add (codes "|")))) ∷ on_line 2 (Apply (AddLine Bottom (NewAssign (codes "t") Recursive (codes "|")))) ∷ on_line 3 (Apply (ChangeValue Every (codes "F") (edits.Remove (codes "-g")))) ∷ on_line 5 (Apply (ChangeValue (One (Some 2)) (codes "t") (edits.Remove (codes "|")))) ∷ Chain (edit_on 6 (RemoveLines (OfAssign None (codes "a.b")))) (edit_on 8 (ChangeValue (One None) (codes "CC") (edits.Add (codes "a\\")))) [] ∷ [])) ∷  -- alternatives-126
    (codes "\"assign\"\tbottom\t>q\t!=\t\\#\r\ndrop \"X$ \" \"$(a b)\"\r\nnth\t001\t\"unset\"\tdefine\r\nall drop F b\r\nnth  1  add  F  \"$(a b)\"\r\n\"try\" \"all\" \"add\" F -g\r\n", Ok (on_line 1 (Apply (AddLine Bottom (NewAssign (codes ">q") Shell (codes "\\#")))) ∷ on_line 2 (Apply (ChangeValue (One None) (codes "X$ ") (edits.Remove (codes "$(a b)")))) ∷ on_line 3 (Apply (RemoveLines (OfAssign (Some 1) (codes "define")))) ∷ on_line 4 (Apply (ChangeValue Every (codes "F") (edits.Remove (codes "b")))) ∷ on_line 5 (Apply (ChangeValue (One (Some 1)) (codes "F") (edits.Add (codes "$(a b)")))) ∷ tried_on 6 (ChangeValue Every (codes "F") (edits.Add (codes "-g"))) ∷ [])) ∷  -- alternatives-127
    (codes "recipe-replace d \"rm -f x\" \"rm -rf x\"\r\n# c\r\nor add X \"a\"\r\n# c\r\n \"or\" nth \"4294967295\" add F a\r\n or drop X \"a\"\r\ntry rename d %.c\r\nnth 1 \"recipe-replace\" %.c \"rm -rf x\" \"rm -rf x\"\r\n\r\n\"or\"  \"add\"  X  a\r\nnth \"2\" drop F $\\\r\nend\r\n\"all\"\tadd\tF\tb\r\nundo\r\nredo\r\ndrop F a\r\ntry  recipe-del  %.c  3", Ok (Chain (edit_on 1 (SetRecipe None (codes "d") (ByText (codes "rm -f x")) (codes "rm -rf x"))) (edit_on 3 (ChangeValue (One None) (codes "X") (edits.Add (codes "a")))) ((edit_on 5 (ChangeValue (One (Some 4294967295)) (codes "F") (edits.Add (codes "a")))) ∷ (edit_on 6 (ChangeValue (One None) (codes "X") (edits.Remove (codes "a")))) ∷ []) ∷ tried_on 7 (RenameTarget (codes "d") (codes "%.c")) ∷ Chain (edit_on 8 (SetRecipe (Some 1) (codes "%.c") (ByText (codes "rm -rf x")) (codes "rm -rf x"))) (edit_on 10 (ChangeValue (One None) (codes "X") (edits.Add (codes "a")))) [] ∷ on_line 11 (Apply (ChangeValue (One (Some 2)) (codes "F") (edits.Remove (codes "$\\")))) ∷ on_line 12 End ∷ on_line 13 (Apply (ChangeValue Every (codes "F") (edits.Add (codes "b")))) ∷ on_line 14 Undo ∷ on_line 15 Redo ∷ on_line 16 (Apply (ChangeValue (One None) (codes "F") (edits.Remove (codes "a")))) ∷ tried_on 17 (RemoveLines (OfRecipe None (codes "%.c") (ByNumber 3))) ∷ [])) ∷  -- alternatives-128
    []

answers_3 : map (λ row. read_script row.0) rows_3 ≡ map (λ row. row.1) rows_3
unfolding line_len lines_from
answers_3 = refl

abbrev rows_4 : List (List ℕ × Result (List Step) ℕ)
rows_4 =
    (codes "drop F -O2\n try add F \"b\"\nall \"append\" F \"$(A -g) -g\"\n\"all\" set a.b -g\nor \"drop\" \"F\" b\n\"or\" nth \"1\" add \\#x ;", Ok (on_line 1 (Apply (ChangeValue (One None) (codes "F") (edits.Remove (codes "-O2")))) ∷ tried_on 2 (ChangeValue (One None) (codes "F") (edits.Add (codes "b"))) ∷ on_line 3 (Apply (ChangeValue Every (codes "F") (edits.Append (codes "$(A -g) -g")))) ∷ Chain (edit_on 4 (ChangeValue Every (codes "a.b") (edits.Set (codes "-g")))) (edit_on 5 (ChangeValue (One None) (codes "F") (edits.Remove (codes "b")))) ((edit_on 6 (ChangeValue (One (Some 1)) (codes "\\#x") (edits.Add (codes ";")))) ∷ []) ∷ [])) ∷  -- alternatives-129
    (codes "unrule %.o\nundo\nrule after-var F foo : \"$$ %.c\"\n\"try\" nth \"4294967295\" drop F $x\nall append X \"x$(a  b)\"\n \nor set F \"$\\\\x a\"\n \n\"or\" drop F $x\n", Ok (on_line 1 (Apply (RemoveLines (OfRule None (codes "%.o")))) ∷ on_line 2 Undo ∷ on_line 3 (Apply (AddLine (AfterVar None (codes "F")) (NewRule (codes "foo") Single (codes "$$ %.c")))) ∷ tried_on 4 (ChangeValue (One (Some 4294967295)) (codes "F") (edits.Remove (codes "$x"))) ∷ Chain (edit_on 5 (ChangeValue Every (codes "X") (edits.Append (codes "x$(a  b)")))) (edit_on 7 (ChangeValue (One None) (codes "F") (edits.Set (codes "$\\x a")))) ((edit_on 9 (ChangeValue (One None) (codes "F") (edits.Remove (codes "$x")))) ∷ []) ∷ [])) ∷  -- alternatives-130
    (codes "nth 000 add override \"$(A -g)\"\nor \"nth\" 4294967295 recipe-replace d \"say \\\"q\\\"\" \"ifdef Q\"\n# c\nor nth 2 drop F \"b\"\nbegin\nnth 2 drop F x=1\ntry  nth  001  \"set\"  \"F\"  -g\nrecipe-insert d 003 \"x \\\\ y\"\ntry nth 1 set F 2\ntry assign bottom a.b ::= x.o\nrecipe-replace d \"x \\\\ y\" true\n", Ok (Chain (edit_on 1 (ChangeValue (One (Some 0)) (codes "override") (edits.Add (codes "$(A -g)")))) (edit_on 2 (SetRecipe (Some 4294967295) (codes "d") (ByText (codes "say \"q\"")) (codes "ifdef Q"))) ((edit_on 4 (ChangeValue (One (Some 2)) (codes "F") (edits.Remove (codes "b")))) ∷ []) ∷ on_line 5 Begin ∷ on_line 6 (Apply (ChangeValue (One (Some 2)) (codes "F") (edits.Remove (codes "x=1")))) ∷ tried_on 7 (ChangeValue (One (Some 1)) (codes "F") (edits.Set (codes "-g"))) ∷ on_line 8 (Apply (AddRecipe None (codes "d") (At 3) (codes "x \\ y"))) ∷ tried_on 9 (ChangeValue (One (Some 1)) (codes "F") (edits.Set (codes "2"))) ∷ tried_on 10 (AddLine Bottom (NewAssign (codes "a.b") PosixSimple (codes "x.o"))) ∷ on_line 11 (Apply (SetRecipe None (codes "d") (ByText (codes "x \\ y")) (codes "true"))) ∷ [])) ∷  -- alternatives-131
    (codes "all set \"F\" \\#\r\n\r\nor rule bottom $(u : \"\"\r\nset X ${c}\r\n \r\nor \"all\" set F a\r\n\"or\" nth 1 drop \"F\" \"\\\\#\"\r\nnth 2 \"add\" F -g\r\ndrop F \"a\"\r\nor nth 1 drop F a\r\nnth\t2\tset\toverride\t-g\r\n \r\nor set F \"$(p #)\"\r\nor \"all\" set \"F\" \"\"\r\n nth 2 \"rule\" before-var F \"t $$\" : \"${c} a&b\"\r\n nth \"2\" unset F\r\nunset F\r\nrecipe-remove $$ \"# n\"", Ok (Chain (edit_on 1 (ChangeValue Every (codes "F") (edits.Set (codes "\\#")))) (edit_on 3 (AddLine Bottom (NewRule (codes "$(u") Single []))) [] ∷ Chain (edit_on 4 (ChangeValue (One None) (codes "X") (edits.Set (codes "${c}")))) (edit_on 6 (ChangeValue Every (codes "F") (edits.Set (codes "a")))) ((edit_on 7 (ChangeValue (One (Some 1)) (codes "F") (edits.Remove (codes "\\#")))) ∷ []) ∷ on_line 8 (Apply (ChangeValue (One (Some 2)) (codes "F") (edits.Add (codes "-g")))) ∷ Chain (edit_on 9 (ChangeValue (One None) (codes "F") (edits.Remove (codes "a")))) (edit_on 10 (ChangeValue (One (Some 1)) (codes "F") (edits.Remove (codes "a")))) [] ∷ Chain (edit_on 11 (ChangeValue (One (Some 2)) (codes "override") (edits.Set (codes "-g")))) (edit_on 13 (ChangeValue (One None) (codes "F") (edits.Set (codes "$(p #)")))) ((edit_on 14 (ChangeValue Every (codes "F") (edits.Set []))) ∷ []) ∷ on_line 15 (Apply (AddLine (BeforeVar (Some 2) (codes "F")) (NewRule (codes "t $$") Single (codes "${c} a&b")))) ∷ on_line 16 (Apply (RemoveLines (OfAssign (Some 2) (codes "F")))) ∷ on_line 17 (Apply (RemoveLines (OfAssign None (codes "F")))) ∷ on_line 18 (Apply (RemoveLines (OfRecipe None (codes "$$") (ByText (codes "# n"))))) ∷ [])) ∷  -- alternatives-132
    (codes "all drop \"a.b\" =\r\nnth 2 unset F\r\n \r\nor all drop a.b =\r\ntry nth 001 recipe-insert d \"1\" true\r\n\"recipe-replace\" c \"\ttrue\" \"say \\\"q\\\"\"\r\nor nth 001 drop a.b \"x$(a  b)\"\r\n# c\r\n or \"set\" X \"-g\"\r\n \"or\" \"all\" add \"a.b\" \"$(t -g)\"\r\nall drop \"a.b\" -O2\r\nredo\r\nrule \"bottom\" ${c} :: \"\"\r\ntry \"recipe-remove\" ${c} \"ifdef Q\"\r\nrule before-rule ${c} \"$(f {)\" : -include2\r\nassign \"bottom\" a.b \"+=\" \"b -include2\"\r\n", Ok (on_line 1 (Apply (ChangeValue Every (codes "a.b") (edits.Remove (codes "=")))) ∷ Chain (edit_on 2 (RemoveLines (OfAssign (Some 2) (codes "F")))) (edit_on 4 (ChangeValue Every (codes "a.b") (edits.Remove (codes "=")))) [] ∷ tried_on 5 (AddRecipe (Some 1) (codes "d") (At 1) (codes "true")) ∷ Chain (edit_on 6 (SetRecipe None (codes "c") (ByText (codes "\ttrue")) (codes "say \"q\""))) (edit_on 7 (ChangeValue (One (Some 1)) (codes "a.b") (edits.Remove (codes "x$(a  b)")))) ((edit_on 9 (ChangeValue (One None) (codes "X") (edits.Set (codes "-g")))) ∷ (edit_on 10 (ChangeValue Every (codes "a.b") (edits.Add (codes "$(t -g)")))) ∷ []) ∷ on_line 11 (Apply (ChangeValue Every (codes "a.b") (edits.Remove (codes "-O2")))) ∷ on_line 12 Redo ∷ on_line 13 (Apply (AddLine Bottom (NewRule (codes "${c}") Double []))) ∷ tried_on 14 (RemoveLines (OfRecipe None (codes "${c}") (ByText (codes "ifdef Q")))) ∷ on_line 15 (Apply (AddLine (BeforeRule None (codes "${c}")) (NewRule (codes "$(f {)") Single (codes "-include2")))) ∷ on_line 16 (Apply (AddLine Bottom (NewAssign (codes "a.b") Append (codes "b -include2")))) ∷ [])) ∷  -- alternatives-133
    (codes "# or\r\n\"append\"\tF\t\"1\"\r\ntry unset X\r\n\"unset\" a.b\r\n \r\nor assign bottom \"a.b\" ::= \\#\r\ndrop a.b \"a\\\\ b\"\r\n\"or\"\t\"add\"\tF\ta\r\nor  \"all\"  append  a.b  \"a\"\r\nall drop a.b \\#\r\n# c\r\n\"or\" unset F\r\ndrop a.b b\r\n\"or\" add F $x\r\nadd F \"=\"", Ok (on_line 2 (Apply (ChangeValue (One None) (codes "F") (edits.Append (codes "1")))) ∷ tried_on 3 (RemoveLines (OfAssign None (codes "X"))) ∷ Chain (edit_on 4 (RemoveLines (OfAssign None (codes "a.b")))) (edit_on 6 (AddLine Bottom (NewAssign (codes "a.b") PosixSimple (codes "\\#")))) [] ∷ Chain (edit_on 7 (ChangeValue (One None) (codes "a.b") (edits.Remove (codes "a\\ b")))) (edit_on 8 (ChangeValue (One None) (codes "F") (edits.Add (codes "a")))) ((edit_on 9 (ChangeValue Every (codes "a.b") (edits.Append (codes "a")))) ∷ []) ∷ Chain (edit_on 10 (ChangeValue Every (codes "a.b") (edits.Remove (codes "\\#")))) (edit_on 12 (RemoveLines (OfAssign None (codes "F")))) [] ∷ Chain (edit_on 13 (ChangeValue (One None) (codes "a.b") (edits.Remove (codes "b")))) (edit_on 14 (ChangeValue (One None) (codes "F") (edits.Add (codes "$x")))) [] ∷ on_line 15 (Apply (ChangeValue (One None) (codes "F") (edits.Add (codes "=")))) ∷ [])) ∷  -- alternatives-134
    (codes "recipe-insert \"c\" \"1\" \" a\"\nrecipe-replace c \"\" \"\"\ntry all append \"F\" \"\"\ntry\tall\tdrop\tF\t-g\n\"nth\"  1  \"drop\"  F  \"$(A -g)\"\nundo\nall \"drop\" F \"$(A -g)\"\ntry nth \"2\" \"drop\" F \"$(t -g)\"\nnth 1 \"append\" F a&b\n", Ok (on_line 1 (Apply (AddRecipe None (codes "c") (At 1) (codes " a"))) ∷ on_line 2 (Apply (SetRecipe None (codes "c") (ByText []) [])) ∷ tried_on 3 (ChangeValue Every (codes "F") (edits.Append [])) ∷ tried_on 4 (ChangeValue Every (codes "F") (edits.Remove (codes "-g"))) ∷ on_line 5 (Apply (ChangeValue (One (Some 1)) (codes "F") (edits.Remove (codes "$(A -g)")))) ∷ on_line 6 Undo ∷ on_line 7 (Apply (ChangeValue Every (codes "F") (edits.Remove (codes "$(A -g)")))) ∷ tried_on 8 (ChangeValue (One (Some 2)) (codes "F") (edits.Remove (codes "$(t -g)"))) ∷ on_line 9 (Apply (ChangeValue (One (Some 1)) (codes "F") (edits.Append (codes "a&b")))) ∷ [])) ∷  -- alternatives-135
    (codes "nth 1 \"drop\" X $x\nnth 3 \"drop\" X \"$(w a)\"\n", Ok (on_line 1 (Apply (ChangeValue (One (Some 1)) (codes "X") (edits.Remove (codes "$x")))) ∷ on_line 2 (Apply (ChangeValue (One (Some 3)) (codes "X") (edits.Remove (codes "$(w a)")))) ∷ [])) ∷  -- alternatives-136
    (codes "\"drop\" a.b \"$(a b)\"\nor\tall\t\"add\"\t\"F\"\t\"$(s (b) a)\"\nor nth \"1\" drop F \"$(A -g)\"\nor rule after-var \"F\" \"$(p #)\" :: \"\"\n", Ok (Chain (edit_on 1 (ChangeValue (One None) (codes "a.b") (edits.Remove (codes "$(a b)")))) (edit_on 2 (ChangeValue Every (codes "F") (edits.Add (codes "$(s (b) a)")))) ((edit_on 3 (ChangeValue (One (Some 1)) (codes "F") (edits.Remove (codes "$(A -g)")))) ∷ (edit_on 4 (AddLine (AfterVar None (codes "F")) (NewRule (codes "$(p #)") Double []))) ∷ []) ∷ [])) ∷  -- alternatives-137
    (codes " all\tappend\tX\t\"$ b\"\n set F \"\"\n# c\nor \"all\" \"drop\" X -g\nor all set \"X\" \"${c} $\\\\x\"\nrule after-var X \"a&b\" \":\" \"\"\nnth 2 \"append\" override b\n \n or drop X \"$ $ b\"\nall  set  X  -O2\nnth 1 add X ${c}\ntry \"drop\" \"X\" \"${c}\"\n\"add\" X a:b\n", Ok (on_line 1 (Apply (ChangeValue Every (codes "X") (edits.Append (codes "$ b")))) ∷ Chain (edit_on 2 (ChangeValue (One None) (codes "F") (edits.Set []))) (edit_on 4 (ChangeValue Every (codes "X") (edits.Remove (codes "-g")))) ((edit_on 5 (ChangeValue Every (codes "X") (edits.Set (codes "${c} $\\x")))) ∷ []) ∷ on_line 6 (Apply (AddLine (AfterVar None (codes "X")) (NewRule (codes "a&b") Single []))) ∷ Chain (edit_on 7 (ChangeValue (One (Some 2)) (codes "override") (edits.Append (codes "b")))) (edit_on 9 (ChangeValue (One None) (codes "X") (edits.Remove (codes "$ $ b")))) [] ∷ on_line 10 (Apply (ChangeValue Every (codes "X") (edits.Set (codes "-O2")))) ∷ on_line 11 (Apply (ChangeValue (One (Some 1)) (codes "X") (edits.Add (codes "${c}")))) ∷ tried_on 12 (ChangeValue (One None) (codes "X") (edits.Remove (codes "${c}"))) ∷ on_line 13 (Apply (ChangeValue (One None) (codes "X") (edits.Add (codes "a:b")))) ∷ [])) ∷  -- alternatives-138
    (codes "nth \"2\" drop F ;\n\"nth\" 1 drop F \"b\"\n\"nth\"  002  add  F  \"b\"\nor  nth  2  \"unset\"  F\nundo\n try \"nth\" 2 unset override\nredo\n \t\nrecipe-replace\t%.o\t\"\ttrue\"\tb\n\n or \"nth\" 4294967295 add F \"$(t -g)\"\n\"or\" \"nth\" 1 drop F b\nor all \"drop\" F -g\n try recipe-replace \"d\" \"rm -rf x\" \"rm -f x\"\n", Ok (on_line 1 (Apply (ChangeValue (One (Some 2)) (codes "F") (edits.Remove (codes ";")))) ∷ on_line 2 (Apply (ChangeValue (One (Some 1)) (codes "F") (edits.Remove (codes "b")))) ∷ Chain (edit_on 3 (ChangeValue (One (Some 2)) (codes "F") (edits.Add (codes "b")))) (edit_on 4 (RemoveLines (OfAssign (Some 2) (codes "F")))) [] ∷ on_line 5 Undo ∷ tried_on 6 (RemoveLines (OfAssign (Some 2) (codes "override"))) ∷ on_line 7 Redo ∷ Chain (edit_on 9 (SetRecipe None (codes "%.o") (ByText (codes "\ttrue")) (codes "b"))) (edit_on 11 (ChangeValue (One (Some 4294967295)) (codes "F") (edits.Add (codes "$(t -g)")))) ((edit_on 12 (ChangeValue (One (Some 1)) (codes "F") (edits.Remove (codes "b")))) ∷ (edit_on 13 (ChangeValue Every (codes "F") (edits.Remove (codes "-g")))) ∷ []) ∷ tried_on 14 (SetRecipe None (codes "d") (ByText (codes "rm -rf x")) (codes "rm -f x")) ∷ [])) ∷  -- alternatives-139
    (codes "begin\r\nnth 2 recipe-replace \"c\" \"a # b\" \"t\"\r\n\r\n\"or\" \"nth\" 3 add F \"b\"\r\n nth 1 recipe-replace c \"say \\\"q\\\"\" >a\r\nnth\t2\t\"drop\"\tF\t|\r\nnth 1 append F \"; =\"\r\nall add F b\r\nnth \"2\" set F ;\r\n", Ok (on_line 1 Begin ∷ Chain (edit_on 2 (SetRecipe (Some 2) (codes "c") (ByText (codes "a # b")) (codes "t"))) (edit_on 4 (ChangeValue (One (Some 3)) (codes "F") (edits.Add (codes "b")))) [] ∷ on_line 5 (Apply (SetRecipe (Some 1) (codes "c") (ByText (codes "say \"q\"")) (codes ">a"))) ∷ on_line 6 (Apply (ChangeValue (One (Some 2)) (codes "F") (edits.Remove (codes "|")))) ∷ on_line 7 (Apply (ChangeValue (One (Some 1)) (codes "F") (edits.Append (codes "; =")))) ∷ on_line 8 (Apply (ChangeValue Every (codes "F") (edits.Add (codes "b")))) ∷ on_line 9 (Apply (ChangeValue (One (Some 2)) (codes "F") (edits.Set (codes ";")))) ∷ [])) ∷  -- alternatives-140
    (codes " try \"all\" append X \"\"\nundo\nadd X a\nnth 4294967295 drop X a\ndrop\tX\t\"$\\\\x\"\nadd\tX\ta\n", Ok (tried_on 1 (ChangeValue Every (codes "X") (edits.Append [])) ∷ on_line 2 Undo ∷ on_line 3 (Apply (ChangeValue (One None) (codes "X") (edits.Add (codes "a")))) ∷ on_line 4 (Apply (ChangeValue (One (Some 4294967295)) (codes "X") (edits.Remove (codes "a")))) ∷ on_line 5 (Apply (ChangeValue (One None) (codes "X") (edits.Remove (codes "$\\x")))) ∷ on_line 6 (Apply (ChangeValue (One None) (codes "X") (edits.Add (codes "a")))) ∷ [])) ∷  -- alternatives-141
    (codes "\"all\" set a.b -g\r\n", Ok (on_line 1 (Apply (ChangeValue Every (codes "a.b") (edits.Set (codes "-g")))) ∷ [])) ∷  -- alternatives-142
    (codes "try undepend \"$(p #)\" $x\ntry \"nth\" 002 \"set\" define \"${g(} ${c}\"\nredo\n all add override =\ndrop \"F\" \"|\"\nor  all  set  override  \"b\"\nappend F $\\x\nredo\nappend\t\"override\"\t\"$(w a)\"\n", Ok (tried_on 1 (ChangePrereqs None (codes "$(p #)") (RemovePrereq (codes "$x"))) ∷ tried_on 2 (ChangeValue (One (Some 2)) (codes "define") (edits.Set (codes "${g(} ${c}"))) ∷ on_line 3 Redo ∷ on_line 4 (Apply (ChangeValue Every (codes "override") (edits.Add (codes "=")))) ∷ Chain (edit_on 5 (ChangeValue (One None) (codes "F") (edits.Remove (codes "|")))) (edit_on 6 (ChangeValue Every (codes "override") (edits.Set (codes "b")))) [] ∷ on_line 7 (Apply (ChangeValue (One None) (codes "F") (edits.Append (codes "$\\x")))) ∷ on_line 8 Redo ∷ on_line 9 (Apply (ChangeValue (One None) (codes "override") (edits.Append (codes "$(w a)")))) ∷ [])) ∷  -- alternatives-143
    (codes "\"try\"\t\"nth\"\t001\t\"add\"\tF\t=\r\ntry \"nth\" 1 drop F \"x$(a  b)\"\r\nundo\r\n", Ok (tried_on 1 (ChangeValue (One (Some 1)) (codes "F") (edits.Add (codes "="))) ∷ tried_on 2 (ChangeValue (One (Some 1)) (codes "F") (edits.Remove (codes "x$(a  b)"))) ∷ on_line 3 Undo ∷ [])) ∷  -- alternatives-144
    (codes "\"nth\" 4294967295 drop X -O2\nor\tall\tadd\t\"X\"\t\"x$(a  b)\"\n\nor all \"add\" F \"$(A -g)\"\nrule after-var >q \"\" : \"${g(}\"\nall append F \"a\\\\ b =\"\n", Ok (Chain (edit_on 1 (ChangeValue (One (Some 4294967295)) (codes "X") (edits.Remove (codes "-O2")))) (edit_on 2 (ChangeValue Every (codes "X") (edits.Add (codes "x$(a  b)")))) ((edit_on 4 (ChangeValue Every (codes "F") (edits.Add (codes "$(A -g)")))) ∷ []) ∷ on_line 5 (Apply (AddLine (AfterVar None (codes ">q")) (NewRule [] Single (codes "${g(}")))) ∷ on_line 6 (Apply (ChangeValue Every (codes "F") (edits.Append (codes "a\\ b =")))) ∷ [])) ∷  -- alternatives-145
    (codes "undo\ndepend c c\nor set X =\n# c\nor  drop  X  a\n\"try\" \"recipe-remove\" c a\nnth  1  set  \"X\"  \"\"\ntry nth 002 set override \"$ b\"\nundo\nrule before-rule c \"${c} .PHONY\" : \"\"\nredo\nnth 1 \"recipe-insert\" .PHONY 4294967295 a\n recipe-replace ${c} \"\" true\n\n\"or\" \"all\" set \"F\" \"$(s (b) a) $ b\"\n", Ok (on_line 1 Undo ∷ Chain (edit_on 2 (ChangePrereqs None (codes "c") (AddPrereq false (codes "c")))) (edit_on 3 (ChangeValue (One None) (codes "X") (edits.Set (codes "=")))) ((edit_on 5 (ChangeValue (One None) (codes "X") (edits.Remove (codes "a")))) ∷ []) ∷ tried_on 6 (RemoveLines (OfRecipe None (codes "c") (ByText (codes "a")))) ∷ on_line 7 (Apply (ChangeValue (One (Some 1)) (codes "X") (edits.Set []))) ∷ tried_on 8 (ChangeValue (One (Some 2)) (codes "override") (edits.Set (codes "$ b"))) ∷ on_line 9 Undo ∷ on_line 10 (Apply (AddLine (BeforeRule None (codes "c")) (NewRule (codes "${c} .PHONY") Single []))) ∷ on_line 11 Redo ∷ on_line 12 (Apply (AddRecipe (Some 1) (codes ".PHONY") (At 4294967295) (codes "a"))) ∷ Chain (edit_on 13 (SetRecipe None (codes "${c}") (ByText []) (codes "true"))) (edit_on 15 (ChangeValue Every (codes "F") (edits.Set (codes "$(s (b) a) $ b")))) [] ∷ [])) ∷  -- alternatives-146
    (codes "all drop F \"\\\\ b\"\n\"try\"\tadd\tX\t-g\nnth  2  add  F  \"$(s (b) a)\"\ntry recipe c \"\"\n\"all\" drop F \"-g\"\n", Ok (on_line 1 (Apply (ChangeValue Every (codes "F") (edits.Remove (codes "\\ b")))) ∷ tried_on 2 (ChangeValue (One None) (codes "X") (edits.Add (codes "-g"))) ∷ on_line 3 (Apply (ChangeValue (One (Some 2)) (codes "F") (edits.Add (codes "$(s (b) a)")))) ∷ tried_on 4 (AddRecipe None (codes "c") Last []) ∷ on_line 5 (Apply (ChangeValue Every (codes "F") (edits.Remove (codes "-g")))) ∷ [])) ∷  -- alternatives-147
    (codes "try \"nth\" 002 recipe-insert \"c\" \"1\" \"# n\"\nnth  2  drop  F  =\ntry nth 1 set F 2\nrecipe-remove c \"x \\\\ y\"\nundo\n unset X\nor all drop \"F\" |\nnth 2 recipe-replace c a a\n\"or\" nth \"1\" add F a\ntry nth 4294967295 recipe-set c 001 define\nnth \"2\" \"drop\" F \"a\"\n", Ok (tried_on 1 (AddRecipe (Some 2) (codes "c") (At 1) (codes "# n")) ∷ on_line 2 (Apply (ChangeValue (One (Some 2)) (codes "F") (edits.Remove (codes "=")))) ∷ tried_on 3 (ChangeValue (One (Some 1)) (codes "F") (edits.Set (codes "2"))) ∷ on_line 4 (Apply (RemoveLines (OfRecipe None (codes "c") (ByText (codes "x \\ y"))))) ∷ on_line 5 Undo ∷ Chain (edit_on 6 (RemoveLines (OfAssign None (codes "X")))) (edit_on 7 (ChangeValue Every (codes "F") (edits.Remove (codes "|")))) [] ∷ Chain (edit_on 8 (SetRecipe (Some 2) (codes "c") (ByText (codes "a")) (codes "a"))) (edit_on 9 (ChangeValue (One (Some 1)) (codes "F") (edits.Add (codes "a")))) [] ∷ tried_on 10 (SetRecipe (Some 4294967295) (codes "c") (ByNumber 1) (codes "define")) ∷ on_line 11 (Apply (ChangeValue (One (Some 2)) (codes "F") (edits.Remove (codes "a")))) ∷ [])) ∷  -- alternatives-148
    (codes "unrule c\n \"drop\" F ${c}\n\"drop\" \"F\" \"-g\"\nadd F \"$(a b)\"\nassign before-var \"F\" endef \"!=\" -include2\nnth \"0\" \"add\" F \"$(a b)\"\n\n\"or\" nth 4294967295 \"drop\" endef -include2\n\"or\" rule before-var \"endef\" \"$(f {)\" :: $(q:;=|)\n\"append\" F \"$(s (b) a)\"\nundo\n", Ok (on_line 1 (Apply (RemoveLines (OfRule None (codes "c")))) ∷ on_line 2 (Apply (ChangeValue (One None) (codes "F") (edits.Remove (codes "${c}")))) ∷ on_line 3 (Apply (ChangeValue (One None) (codes "F") (edits.Remove (codes "-g")))) ∷ on_line 4 (Apply (ChangeValue (One None) (codes "F") (edits.Add (codes "$(a b)")))) ∷ on_line 5 (Apply (AddLine (BeforeVar None (codes "F")) (NewAssign (codes "endef") Shell (codes "-include2")))) ∷ Chain (edit_on 6 (ChangeValue (One (Some 0)) (codes "F") (edits.Add (codes "$(a b)")))) (edit_on 8 (ChangeValue (One (Some 4294967295)) (codes "endef") (edits.Remove (codes "-include2")))) ((edit_on 9 (AddLine (BeforeVar None (codes "endef")) (NewRule (codes "$(f {)") Double (codes "$(q:;=|)")))) ∷ []) ∷ on_line 10 (Apply (ChangeValue (One None) (codes "F") (edits.Append (codes "$(s (b) a)")))) ∷ on_line 11 Undo ∷ [])) ∷  -- alternatives-149
    (codes "drop .b -g\r\nall add .b x=1\r\n", Ok (on_line 1 (Apply (ChangeValue (One None) (codes ".b") (edits.Remove (codes "-g")))) ∷ on_line 2 (Apply (ChangeValue Every (codes ".b") (edits.Add (codes "x=1")))) ∷ [])) ∷  -- alternatives-150
    (codes "try all drop F \"$(w a)\"\n\"try\" \"all\" \"add\" F -g\nnth 1 set F \"\"\nnth 2 drop F \"-g\"\nset X \"\"\n\"or\" \"nth\" 1 set F \"-g\"\nnth \"1\" set \"F\" \"; -include2\"\nundo\nnth 1 drop a.b \"$(t -g)\"\nor nth 1 add F \"$(w a)\"\nor all drop F b\n", Ok (tried_on 1 (ChangeValue Every (codes "F") (edits.Remove (codes "$(w a)"))) ∷ tried_on 2 (ChangeValue Every (codes "F") (edits.Add (codes "-g"))) ∷ on_line 3 (Apply (ChangeValue (One (Some 1)) (codes "F") (edits.Set []))) ∷ on_line 4 (Apply (ChangeValue (One (Some 2)) (codes "F") (edits.Remove (codes "-g")))) ∷ Chain (edit_on 5 (ChangeValue (One None) (codes "X") (edits.Set []))) (edit_on 6 (ChangeValue (One (Some 1)) (codes "F") (edits.Set (codes "-g")))) [] ∷ on_line 7 (Apply (ChangeValue (One (Some 1)) (codes "F") (edits.Set (codes "; -include2")))) ∷ on_line 8 Undo ∷ Chain (edit_on 9 (ChangeValue (One (Some 1)) (codes "a.b") (edits.Remove (codes "$(t -g)")))) (edit_on 10 (ChangeValue (One (Some 1)) (codes "F") (edits.Add (codes "$(w a)")))) ((edit_on 11 (ChangeValue Every (codes "F") (edits.Remove (codes "b")))) ∷ []) ∷ [])) ∷  -- alternatives-151
    (codes "begin\nrecipe-replace %.o \"x \\\\ y\" \"x \\\\ y\"\n# c\nor \"recipe-replace\" c t \"x \\\\ y\"\n add F \\#\n \nor  \"assign\"  \"before-var\"  \"F\"  \"a.b\"  :=  :\n\nor add \"F\" =\nor add F \"x$(a  b)\"\n all\tdrop\tF\t\\#\nnth 2 \"unrule\" d\ntry all drop F -g\n", Ok (on_line 1 Begin ∷ Chain (edit_on 2 (SetRecipe None (codes "%.o") (ByText (codes "x \\ y")) (codes "x \\ y"))) (edit_on 4 (SetRecipe None (codes "c") (ByText (codes "t")) (codes "x \\ y"))) [] ∷ Chain (edit_on 5 (ChangeValue (One None) (codes "F") (edits.Add (codes "\\#")))) (edit_on 7 (AddLine (BeforeVar None (codes "F")) (NewAssign (codes "a.b") Simple (codes ":")))) ((edit_on 9 (ChangeValue (One None) (codes "F") (edits.Add (codes "=")))) ∷ (edit_on 10 (ChangeValue (One None) (codes "F") (edits.Add (codes "x$(a  b)")))) ∷ []) ∷ on_line 11 (Apply (ChangeValue Every (codes "F") (edits.Remove (codes "\\#")))) ∷ on_line 12 (Apply (RemoveLines (OfRule (Some 2) (codes "d")))) ∷ tried_on 13 (ChangeValue Every (codes "F") (edits.Remove (codes "-g"))) ∷ [])) ∷  -- alternatives-152
    (codes "add  F  \"$ b\"\nall \"drop\" F \"$ b\"\nnth 1 append X ;\nend\nnth 1 add F ${c}\nbegin\n", Ok (on_line 1 (Apply (ChangeValue (One None) (codes "F") (edits.Add (codes "$ b")))) ∷ on_line 2 (Apply (ChangeValue Every (codes "F") (edits.Remove (codes "$ b")))) ∷ on_line 3 (Apply (ChangeValue (One (Some 1)) (codes "X") (edits.Append (codes ";")))) ∷ on_line 4 End ∷ on_line 5 (Apply (ChangeValue (One (Some 1)) (codes "F") (edits.Add (codes "${c}")))) ∷ on_line 6 Begin ∷ [])) ∷  -- alternatives-153
    (codes "\"append\" F \"\"\nunset F\n\"nth\" 002 recipe-remove c \"true\"\nadd \"F\" \"-g\"\n \n or drop F a\n\"or\" nth 001 set F a\nor \"drop\" F $\\x\ntry\tdrop\t\"X\"\t\"a$ b\"\n", Ok (on_line 1 (Apply (ChangeValue (One None) (codes "F") (edits.Append []))) ∷ on_line 2 (Apply (RemoveLines (OfAssign None (codes "F")))) ∷ on_line 3 (Apply (RemoveLines (OfRecipe (Some 2) (codes "c") (ByText (codes "true"))))) ∷ Chain (edit_on 4 (ChangeValue (One None) (codes "F") (edits.Add (codes "-g")))) (edit_on 6 (ChangeValue (One None) (codes "F") (edits.Remove (codes "a")))) ((edit_on 7 (ChangeValue (One (Some 1)) (codes "F") (edits.Set (codes "a")))) ∷ (edit_on 8 (ChangeValue (One None) (codes "F") (edits.Remove (codes "$\\x")))) ∷ []) ∷ tried_on 9 (ChangeValue (One None) (codes "X") (edits.Remove (codes "a$ b"))) ∷ [])) ∷  -- alternatives-154
    (codes "begin\r\ndrop override \"b\"\r\n\"set\" override $#", Ok (on_line 1 Begin ∷ on_line 2 (Apply (ChangeValue (One None) (codes "override") (edits.Remove (codes "b")))) ∷ on_line 3 (Apply (ChangeValue (One None) (codes "override") (edits.Set (codes "$#")))) ∷ [])) ∷  -- alternatives-155
    (codes "try recipe-replace c t >a\ndrop a.b \"$(s (b) a)\"\nrecipe-insert %.o 1 \"a\"\nrecipe-remove c true\nor nth \"2\" \"unset\" \"X\"\nnth 1 \"add\" \"X\" a", Ok (tried_on 1 (SetRecipe None (codes "c") (ByText (codes "t")) (codes ">a")) ∷ on_line 2 (Apply (ChangeValue (One None) (codes "a.b") (edits.Remove (codes "$(s (b) a)")))) ∷ on_line 3 (Apply (AddRecipe None (codes "%.o") (At 1) (codes "a"))) ∷ Chain (edit_on 4 (RemoveLines (OfRecipe None (codes "c") (ByText (codes "true"))))) (edit_on 5 (RemoveLines (OfAssign (Some 2) (codes "X")))) [] ∷ on_line 6 (Apply (ChangeValue (One (Some 1)) (codes "X") (edits.Add (codes "a")))) ∷ [])) ∷  -- alternatives-156
    (codes "drop \"define\" .PHONY\nassign before-rule -include2 X = ${c}\nnth 1 set F \"\"\ntry nth \"0\" recipe-replace a&b true \"a # b\"\ntry \"set\" F \"$(a b) b\"\n", Ok (on_line 1 (Apply (ChangeValue (One None) (codes "define") (edits.Remove (codes ".PHONY")))) ∷ on_line 2 (Apply (AddLine (BeforeRule None (codes "-include2")) (NewAssign (codes "X") Recursive (codes "${c}")))) ∷ on_line 3 (Apply (ChangeValue (One (Some 1)) (codes "F") (edits.Set []))) ∷ tried_on 4 (SetRecipe (Some 0) (codes "a&b") (ByText (codes "true")) (codes "a # b")) ∷ tried_on 5 (ChangeValue (One None) (codes "F") (edits.Set (codes "$(a b) b"))) ∷ [])) ∷  -- alternatives-157
    (codes "unrule \"c\"\r\ndrop\tF\t\"-O2\"\r\n \r\nor assign bottom Y \":=\" \"\\\\$x \\\\#\"\r\nappend F \"$(w a)\"\r\nor drop Y $\\x\r\nor \"add\" Y $x", Ok (on_line 1 (Apply (RemoveLines (OfRule None (codes "c")))) ∷ Chain (edit_on 2 (ChangeValue (One None) (codes "F") (edits.Remove (codes "-O2")))) (edit_on 4 (AddLine Bottom (NewAssign (codes "Y") Simple (codes "\\$x \\#")))) [] ∷ Chain (edit_on 5 (ChangeValue (One None) (codes "F") (edits.Append (codes "$(w a)")))) (edit_on 6 (ChangeValue (One None) (codes "Y") (edits.Remove (codes "$\\x")))) ((edit_on 7 (ChangeValue (One None) (codes "Y") (edits.Add (codes "$x")))) ∷ []) ∷ [])) ∷  -- alternatives-158
    (codes "nth 001 recipe-insert \"c\" \"1\" b\nappend F \"$(t -g)\"\ntry  \"recipe-remove\"  c  \"say \\\"q\\\"\"\ntry\t\"all\"\tdrop\t$(X)\t\"=\"\nadd \"X$:\" a\n\"try\" add F -O2", Ok (on_line 1 (Apply (AddRecipe (Some 1) (codes "c") (At 1) (codes "b"))) ∷ on_line 2 (Apply (ChangeValue (One None) (codes "F") (edits.Append (codes "$(t -g)")))) ∷ tried_on 3 (RemoveLines (OfRecipe None (codes "c") (ByText (codes "say \"q\"")))) ∷ tried_on 4 (ChangeValue Every (codes "$(X)") (edits.Remove (codes "="))) ∷ on_line 5 (Apply (ChangeValue (One None) (codes "X$:") (edits.Add (codes "a")))) ∷ tried_on 6 (ChangeValue (One None) (codes "F") (edits.Add (codes "-O2"))) ∷ [])) ∷  -- alternatives-159
    (codes "try nth 4294967295 \"append\" X \"a\\\\ b\"\r\nredo\r\nundepend \"c\" a\r\ndrop F $x\r\n \"or\"  all  \"drop\"  F  ;\r\nrecipe-replace c \"rm -f x\" \"\ttrue\"\r\n\"try\" drop \"F\" a", Ok (tried_on 1 (ChangeValue (One (Some 4294967295)) (codes "X") (edits.Append (codes "a\\ b"))) ∷ on_line 2 Redo ∷ on_line 3 (Apply (ChangePrereqs None (codes "c") (RemovePrereq (codes "a")))) ∷ Chain (edit_on 4 (ChangeValue (One None) (codes "F") (edits.Remove (codes "$x")))) (edit_on 5 (ChangeValue Every (codes "F") (edits.Remove (codes ";")))) [] ∷ on_line 6 (Apply (SetRecipe None (codes "c") (ByText (codes "rm -f x")) (codes "\ttrue"))) ∷ tried_on 7 (ChangeValue (One None) (codes "F") (edits.Remove (codes "a"))) ∷ [])) ∷  -- alternatives-160
    (codes "assign\tbottom\t-x_9\t!=\t\"$x ;\"\r\ndrop  F  \\#\r\nor assign \"before-rule\" x.o a.b := $x\r\n\"try\" \"rule\" bottom a :: a&b\r\nall \"set\" X$: \"x$(a  b)\"\r\nadd F \\#\r\nadd a\\= \"$(t -g)\"\r\nrecipe-insert\td\t\"001\"\ta\\\\\r\ndrop \"a\\\\=\" x=1\r\nrule bottom \"$x a\" :: \"\"\r\n", Ok (on_line 1 (Apply (AddLine Bottom (NewAssign (codes "-x_9") Shell (codes "$x ;")))) ∷ Chain (edit_on 2 (ChangeValue (One None) (codes "F") (edits.Remove (codes "\\#")))) (edit_on 3 (AddLine (BeforeRule None (codes "x.o")) (NewAssign (codes "a.b") Simple (codes "$x")))) [] ∷ tried_on 4 (AddLine Bottom (NewRule (codes "a") Double (codes "a&b"))) ∷ on_line 5 (Apply (ChangeValue Every (codes "X$:") (edits.Set (codes "x$(a  b)")))) ∷ on_line 6 (Apply (ChangeValue (One None) (codes "F") (edits.Add (codes "\\#")))) ∷ on_line 7 (Apply (ChangeValue (One None) (codes "a\\=") (edits.Add (codes "$(t -g)")))) ∷ on_line 8 (Apply (AddRecipe None (codes "d") (At 1) (codes "a\\\\"))) ∷ on_line 9 (Apply (ChangeValue (One None) (codes "a\\=") (edits.Remove (codes "x=1")))) ∷ on_line 10 (Apply (AddLine Bottom (NewRule (codes "$x a") Double []))) ∷ [])) ∷  -- alternatives-161
    (codes "\"try\" recipe-replace \"x.o\" \"rm -f x\" \">a\"\nrecipe-remove x.o b\ntry all drop F -g\nundo\n", Ok (tried_on 1 (SetRecipe None (codes "x.o") (ByText (codes "rm -f x")) (codes ">a")) ∷ on_line 2 (Apply (RemoveLines (OfRecipe None (codes "x.o") (ByText (codes "b"))))) ∷ tried_on 3 (ChangeValue Every (codes "F") (edits.Remove (codes "-g"))) ∷ on_line 4 Undo ∷ [])) ∷  -- alternatives-162
    (codes "rule \"after-var\" endef -include2 :: \"x.o $(a b)\"\nor set X =\n all \"drop\" F \"$(t -g)\"", Ok (Chain (edit_on 1 (AddLine (AfterVar None (codes "endef")) (NewRule (codes "-include2") Double (codes "x.o $(a b)")))) (edit_on 2 (ChangeValue (One None) (codes "X") (edits.Set (codes "=")))) [] ∷ on_line 3 (Apply (ChangeValue Every (codes "F") (edits.Remove (codes "$(t -g)")))) ∷ [])) ∷  -- alternatives-163
    (codes "\"recipe-insert\"  x.o  003  \"ifdef Q\"\r\n \r\nor all \"set\" a.b \"$(w a) $(s (b) a)\"", Ok (Chain (edit_on 1 (AddRecipe None (codes "x.o") (At 3) (codes "ifdef Q"))) (edit_on 3 (ChangeValue Every (codes "a.b") (edits.Set (codes "$(w a) $(s (b) a)")))) [] ∷ [])) ∷  -- alternatives-164
    (codes "\"unset\"\tF\n\nor all drop X -g\nadd X a:b\ntry all append F -O2\n\"unset\" X\nrule bottom $(s\\) :: \"\"\ntry all drop F -g\nrecipe-insert $(s\\) 1 \"# n\"\nrename $(s\\) \"t\"", Ok (Chain (edit_on 1 (RemoveLines (OfAssign None (codes "F")))) (edit_on 3 (ChangeValue Every (codes "X") (edits.Remove (codes "-g")))) [] ∷ on_line 4 (Apply (ChangeValue (One None) (codes "X") (edits.Add (codes "a:b")))) ∷ tried_on 5 (ChangeValue Every (codes "F") (edits.Append (codes "-O2"))) ∷ on_line 6 (Apply (RemoveLines (OfAssign None (codes "X")))) ∷ on_line 7 (Apply (AddLine Bottom (NewRule (codes "$(s\\)") Double []))) ∷ tried_on 8 (ChangeValue Every (codes "F") (edits.Remove (codes "-g"))) ∷ on_line 9 (Apply (AddRecipe None (codes "$(s\\)") (At 1) (codes "# n"))) ∷ on_line 10 (Apply (RenameTarget (codes "$(s\\)") (codes "t"))) ∷ [])) ∷  -- alternatives-165
    (codes "drop override a\n drop override \"$ \"\nrecipe-del include 1\ntry all \"append\" override -O2\n set F \"a $(w a)\"\ntry nth 0 add \"override\" -O2\nassign before-rule include \"override\" :::= \"\"\nend\ntry nth 1 set F 2\n", Ok (on_line 1 (Apply (ChangeValue (One None) (codes "override") (edits.Remove (codes "a")))) ∷ on_line 2 (Apply (ChangeValue (One None) (codes "override") (edits.Remove (codes "$ ")))) ∷ on_line 3 (Apply (RemoveLines (OfRecipe None (codes "include") (ByNumber 1)))) ∷ tried_on 4 (ChangeValue Every (codes "override") (edits.Append (codes "-O2"))) ∷ on_line 5 (Apply (ChangeValue (One None) (codes "F") (edits.Set (codes "a $(w a)")))) ∷ tried_on 6 (ChangeValue (One (Some 0)) (codes "override") (edits.Add (codes "-O2"))) ∷ on_line 7 (Apply (AddLine (BeforeRule None (codes "include")) (NewAssign (codes "override") Immediate []))) ∷ on_line 8 End ∷ tried_on 9 (ChangeValue (One (Some 1)) (codes "F") (edits.Set (codes "2"))) ∷ [])) ∷  -- alternatives-166
    (codes " try  nth  001  unset  F\r\nall \"add\" override a\r\nbegin\r\n", Ok (tried_on 1 (RemoveLines (OfAssign (Some 1) (codes "F"))) ∷ on_line 2 (Apply (ChangeValue Every (codes "override") (edits.Add (codes "a")))) ∷ on_line 3 Begin ∷ [])) ∷  -- alternatives-167
    (codes "try\tdrop\t\"X\"\t\"-g\"\r\nnth 1 add X $x\r\ndrop \"a.b\" -g\r\n or nth 4294967295 add X -O2\r\nor drop X ;\r\n assign bottom A ::= %.o\r\ndrop A %.o\r\nall \"drop\" A -g\r\n\r\nor set \"F\" \"\"\r\nor all add A \"\\\\#\"\r\ndrop F a\r\nor\tdrop\tX\t-O2\r\n\"try\" nth 1 append X \"x=1\"\r\n", Ok (tried_on 1 (ChangeValue (One None) (codes "X") (edits.Remove (codes "-g"))) ∷ on_line 2 (Apply (ChangeValue (One (Some 1)) (codes "X") (edits.Add (codes "$x")))) ∷ Chain (edit_on 3 (ChangeValue (One None) (codes "a.b") (edits.Remove (codes "-g")))) (edit_on 4 (ChangeValue (One (Some 4294967295)) (codes "X") (edits.Add (codes "-O2")))) ((edit_on 5 (ChangeValue (One None) (codes "X") (edits.Remove (codes ";")))) ∷ []) ∷ on_line 6 (Apply (AddLine Bottom (NewAssign (codes "A") PosixSimple (codes "%.o")))) ∷ on_line 7 (Apply (ChangeValue (One None) (codes "A") (edits.Remove (codes "%.o")))) ∷ Chain (edit_on 8 (ChangeValue Every (codes "A") (edits.Remove (codes "-g")))) (edit_on 10 (ChangeValue (One None) (codes "F") (edits.Set []))) ((edit_on 11 (ChangeValue Every (codes "A") (edits.Add (codes "\\#")))) ∷ []) ∷ Chain (edit_on 12 (ChangeValue (One None) (codes "F") (edits.Remove (codes "a")))) (edit_on 13 (ChangeValue (One None) (codes "X") (edits.Remove (codes "-O2")))) [] ∷ tried_on 14 (ChangeValue (One (Some 1)) (codes "X") (edits.Append (codes "x=1"))) ∷ [])) ∷  -- alternatives-168
    (codes "all add F -g\r\n\"try\" nth 1 recipe-set \"$x\" \"000\" \"\tb\"\r\nappend F :\r\nundo\r\nall \"set\" F \"\"\r\nall  add  F  \"$(w a)\"\r\n", Ok (on_line 1 (Apply (ChangeValue Every (codes "F") (edits.Add (codes "-g")))) ∷ tried_on 2 (SetRecipe (Some 1) (codes "$x") (ByNumber 0) (codes "\tb")) ∷ on_line 3 (Apply (ChangeValue (One None) (codes "F") (edits.Append (codes ":")))) ∷ on_line 4 Undo ∷ on_line 5 (Apply (ChangeValue Every (codes "F") (edits.Set []))) ∷ on_line 6 (Apply (ChangeValue Every (codes "F") (edits.Add (codes "$(w a)")))) ∷ [])) ∷  -- alternatives-169
    (codes "\"nth\" \"1\" rule after-var F \"\" :: \"${c} .PHONY\"\r\n# c\r\n or nth \"1\" \"set\" F \"\"\r\n\"all\" \"append\" X \"$ b\"\r\nrecipe-insert c \"001\" \"say \\\"q\\\"\"\r\n or  \"nth\"  001  add  \"F\"  \\\\a\r\n", Ok (Chain (edit_on 1 (AddLine (AfterVar (Some 1) (codes "F")) (NewRule [] Double (codes "${c} .PHONY")))) (edit_on 3 (ChangeValue (One (Some 1)) (codes "F") (edits.Set []))) [] ∷ on_line 4 (Apply (ChangeValue Every (codes "X") (edits.Append (codes "$ b")))) ∷ Chain (edit_on 5 (AddRecipe None (codes "c") (At 1) (codes "say \"q\""))) (edit_on 6 (ChangeValue (One (Some 1)) (codes "F") (edits.Add (codes "\\\\a")))) [] ∷ [])) ∷  -- alternatives-170
    (codes "unset endef\nadd override \"a:b\"\nrecipe-remove c a\nend\nrecipe-insert  c  \"4294967295\"  \"true\"\ntry  all  append  override  -g\n\"recipe-del\" \"c\" \"1\"\n# c\nor recipe-set c 4294967295 \"e f \\\\ g\"", Ok (on_line 1 (Apply (RemoveLines (OfAssign None (codes "endef")))) ∷ on_line 2 (Apply (ChangeValue (One None) (codes "override") (edits.Add (codes "a:b")))) ∷ on_line 3 (Apply (RemoveLines (OfRecipe None (codes "c") (ByText (codes "a"))))) ∷ on_line 4 End ∷ on_line 5 (Apply (AddRecipe None (codes "c") (At 4294967295) (codes "true"))) ∷ tried_on 6 (ChangeValue Every (codes "override") (edits.Append (codes "-g"))) ∷ Chain (edit_on 7 (RemoveLines (OfRecipe None (codes "c") (ByNumber 1)))) (edit_on 9 (SetRecipe None (codes "c") (ByNumber 4294967295) (codes "e f \\ g"))) [] ∷ [])) ∷  -- alternatives-171
    (codes "\"try\" \"drop\" \"X$ \" a\nnth 2 \"add\" X \"$ b\"\n \nor add a.b ;\n\nor recipe-remove \"%.o\" \"a # b\"\nall drop F b\nor recipe-replace c \"say \\\"q\\\"\" \"rm -f x\"\nnth 1 add X b\nundo\nnth 0 set F -g\n recipe-remove c \"# n\"\ntry drop Y! \" a\"\nundo\n", Ok (tried_on 1 (ChangeValue (One None) (codes "X$ ") (edits.Remove (codes "a"))) ∷ Chain (edit_on 2 (ChangeValue (One (Some 2)) (codes "X") (edits.Add (codes "$ b")))) (edit_on 4 (ChangeValue (One None) (codes "a.b") (edits.Add (codes ";")))) ((edit_on 6 (RemoveLines (OfRecipe None (codes "%.o") (ByText (codes "a # b"))))) ∷ []) ∷ Chain (edit_on 7 (ChangeValue Every (codes "F") (edits.Remove (codes "b")))) (edit_on 8 (SetRecipe None (codes "c") (ByText (codes "say \"q\"")) (codes "rm -f x"))) [] ∷ on_line 9 (Apply (ChangeValue (One (Some 1)) (codes "X") (edits.Add (codes "b")))) ∷ on_line 10 Undo ∷ on_line 11 (Apply (ChangeValue (One (Some 0)) (codes "F") (edits.Set (codes "-g")))) ∷ on_line 12 (Apply (RemoveLines (OfRecipe None (codes "c") (ByText (codes "# n"))))) ∷ tried_on 13 (ChangeValue (One None) (codes "Y!") (edits.Remove (codes " a"))) ∷ on_line 14 Undo ∷ [])) ∷  -- alternatives-172
    (codes "nth \"2\" set \"F\" \"${c} $\\\\x\"\ntry\tnth\t1\tdrop\t\"F\"\t\"Ã©\"\n\"nth\" 2 \"drop\" F -g\nor nth 1 drop F \"$(A -g)\"\n\n or all drop F \"$(w a)\"\nor nth 002 drop F \"$\\\\x\"\n \t\nall append F \"x=1\"\nnth \"2\" unset F\ndrop F \"x=1\"\n", Ok (on_line 1 (Apply (ChangeValue (One (Some 2)) (codes "F") (edits.Set (codes "${c} $\\x")))) ∷ tried_on 2 (ChangeValue (One (Some 1)) (codes "F") (edits.Remove (codes "Ã©"))) ∷ Chain (edit_on 3 (ChangeValue (One (Some 2)) (codes "F") (edits.Remove (codes "-g")))) (edit_on 4 (ChangeValue (One (Some 1)) (codes "F") (edits.Remove (codes "$(A -g)")))) ((edit_on 6 (ChangeValue Every (codes "F") (edits.Remove (codes "$(w a)")))) ∷ (edit_on 7 (ChangeValue (One (Some 2)) (codes "F") (edits.Remove (codes "$\\x")))) ∷ []) ∷ on_line 9 (Apply (ChangeValue Every (codes "F") (edits.Append (codes "x=1")))) ∷ on_line 10 (Apply (RemoveLines (OfAssign (Some 2) (codes "F")))) ∷ on_line 11 (Apply (ChangeValue (One None) (codes "F") (edits.Remove (codes "x=1")))) ∷ [])) ∷  -- alternatives-173
    (codes "append \"F\" a:b\nnth 001 recipe-insert \"c\" 2 b\n recipe-replace c \"ifdef Q\" \"\"\n all \"add\" F \"-O2\"\n \"nth\" 0 recipe-remove \"c\" \" a\"\n\nor \"add\" \"F\" b\n \"nth\" 001 unrule c\n", Ok (on_line 1 (Apply (ChangeValue (One None) (codes "F") (edits.Append (codes "a:b")))) ∷ on_line 2 (Apply (AddRecipe (Some 1) (codes "c") (At 2) (codes "b"))) ∷ on_line 3 (Apply (SetRecipe None (codes "c") (ByText (codes "ifdef Q")) [])) ∷ on_line 4 (Apply (ChangeValue Every (codes "F") (edits.Add (codes "-O2")))) ∷ Chain (edit_on 5 (RemoveLines (OfRecipe (Some 0) (codes "c") (ByText (codes " a"))))) (edit_on 7 (ChangeValue (One None) (codes "F") (edits.Add (codes "b")))) [] ∷ on_line 8 (Apply (RemoveLines (OfRule (Some 1) (codes "c")))) ∷ [])) ∷  -- alternatives-174
    (codes "try \"recipe-insert\" c 3 \"\"\r\n nth 002 recipe c >\r\n \r\n\"or\" \"nth\" 4294967295 recipe-replace \"c\" b a\0\r\nundo\r\nnth 4294967295 drop \"F\" -g\r\ntry \"recipe-replace\" c \"rm -f x\" a\r\ntry set \"F\" \"\"\r\nall  drop  override  \"$ b\"\r\n \"all\" drop a.b \"$(s (b) a)\"\r\nrecipe-insert \"c\" \"3\" \"rm -f x\"", Ok (tried_on 1 (AddRecipe None (codes "c") (At 3) []) ∷ Chain (edit_on 2 (AddRecipe (Some 2) (codes "c") Last (codes ">"))) (edit_on 4 (SetRecipe (Some 4294967295) (codes "c") (ByText (codes "b")) (codes "a\0"))) [] ∷ on_line 5 Undo ∷ on_line 6 (Apply (ChangeValue (One (Some 4294967295)) (codes "F") (edits.Remove (codes "-g")))) ∷ tried_on 7 (SetRecipe None (codes "c") (ByText (codes "rm -f x")) (codes "a")) ∷ tried_on 8 (ChangeValue (One None) (codes "F") (edits.Set [])) ∷ on_line 9 (Apply (ChangeValue Every (codes "override") (edits.Remove (codes "$ b")))) ∷ on_line 10 (Apply (ChangeValue Every (codes "a.b") (edits.Remove (codes "$(s (b) a)")))) ∷ on_line 11 (Apply (AddRecipe None (codes "c") (At 3) (codes "rm -f x"))) ∷ [])) ∷  -- alternatives-175
    (codes "\"unset\" a.b\r\nrecipe-replace\tx.o\t\"\ttrue\"\t\" a\"\r\n \"add\" F \"|\"\r\ndrop \"override\" \"a$ b\"\r\nnth 0 recipe-remove \"x.o\" true\r\nrecipe-remove\tx.o\t\"\ttrue\"", Ok (on_line 1 (Apply (RemoveLines (OfAssign None (codes "a.b")))) ∷ on_line 2 (Apply (SetRecipe None (codes "x.o") (ByText (codes "\ttrue")) (codes " a"))) ∷ on_line 3 (Apply (ChangeValue (One None) (codes "F") (edits.Add (codes "|")))) ∷ on_line 4 (Apply (ChangeValue (One None) (codes "override") (edits.Remove (codes "a$ b")))) ∷ on_line 5 (Apply (RemoveLines (OfRecipe (Some 0) (codes "x.o") (ByText (codes "true"))))) ∷ on_line 6 (Apply (RemoveLines (OfRecipe None (codes "x.o") (ByText (codes "\ttrue"))))) ∷ [])) ∷  -- alternatives-176
    (codes "drop a.b $(u\r\nrecipe-replace x.o \"t\" \"rm -f x\"\r\nundo\r\nrecipe-remove x.o \"ifdef Q\"\r\nor rename x.o \"-include2\"\r\ntry unset F\r\ntry nth 2 drop a.b -g\r\nbegin\r\ntry \"nth\" 0 \"recipe-remove\" %.o \"\"\r\n", Ok (on_line 1 (Apply (ChangeValue (One None) (codes "a.b") (edits.Remove (codes "$(u")))) ∷ on_line 2 (Apply (SetRecipe None (codes "x.o") (ByText (codes "t")) (codes "rm -f x"))) ∷ on_line 3 Undo ∷ Chain (edit_on 4 (RemoveLines (OfRecipe None (codes "x.o") (ByText (codes "ifdef Q"))))) (edit_on 5 (RenameTarget (codes "x.o") (codes "-include2"))) [] ∷ tried_on 6 (RemoveLines (OfAssign None (codes "F"))) ∷ tried_on 7 (ChangeValue (One (Some 2)) (codes "a.b") (edits.Remove (codes "-g"))) ∷ on_line 8 Begin ∷ tried_on 9 (RemoveLines (OfRecipe (Some 0) (codes "%.o") (ByText []))) ∷ [])) ∷  -- alternatives-177
    (codes "recipe-insert  \"c\"  \"004\"  t\n\"drop\"\tF\t$x\ntry unrule c\ntry recipe-remove d true\nnth 4294967295 recipe-insert d 1 \"rm -f x\"\nor nth 4294967295 recipe-remove d \"a\"\n# c\nor recipe-insert \"d\" \"001\" \"ifdef Q\"\ntry nth 1 set F 2\nundo\ntry\t\"nth\"\t1\t\"recipe-insert\"\td\t1\t\"\ttrue\"\nrecipe-insert d 2 >a\nor nth 002 \"append\" \"override\" -g\nor add F \\#", Ok (on_line 1 (Apply (AddRecipe None (codes "c") (At 4) (codes "t"))) ∷ on_line 2 (Apply (ChangeValue (One None) (codes "F") (edits.Remove (codes "$x")))) ∷ tried_on 3 (RemoveLines (OfRule None (codes "c"))) ∷ tried_on 4 (RemoveLines (OfRecipe None (codes "d") (ByText (codes "true")))) ∷ Chain (edit_on 5 (AddRecipe (Some 4294967295) (codes "d") (At 1) (codes "rm -f x"))) (edit_on 6 (RemoveLines (OfRecipe (Some 4294967295) (codes "d") (ByText (codes "a"))))) ((edit_on 8 (AddRecipe None (codes "d") (At 1) (codes "ifdef Q"))) ∷ []) ∷ tried_on 9 (ChangeValue (One (Some 1)) (codes "F") (edits.Set (codes "2"))) ∷ on_line 10 Undo ∷ tried_on 11 (AddRecipe (Some 1) (codes "d") (At 1) (codes "\ttrue")) ∷ Chain (edit_on 12 (AddRecipe None (codes "d") (At 2) (codes ">a"))) (edit_on 13 (ChangeValue (One (Some 2)) (codes "override") (edits.Append (codes "-g")))) ((edit_on 14 (ChangeValue (One None) (codes "F") (edits.Add (codes "\\#")))) ∷ []) ∷ [])) ∷  -- alternatives-178
    []

answers_4 : map (λ row. read_script row.0) rows_4 ≡ map (λ row. row.1) rows_4
unfolding line_len lines_from
answers_4 = refl

abbrev rows_5 : List (List ℕ × Result (List Step) ℕ)
rows_5 =
    (codes "all append \"F\" \"-g =\"\r\nrule bottom c : \"\"\r\nundo\r\nappend F \"${c} -g\"\r\n\"all\" drop X \"$(s (b) a)\"\r\n", Ok (on_line 1 (Apply (ChangeValue Every (codes "F") (edits.Append (codes "-g =")))) ∷ on_line 2 (Apply (AddLine Bottom (NewRule (codes "c") Single []))) ∷ on_line 3 Undo ∷ on_line 4 (Apply (ChangeValue (One None) (codes "F") (edits.Append (codes "${c} -g")))) ∷ on_line 5 (Apply (ChangeValue Every (codes "X") (edits.Remove (codes "$(s (b) a)")))) ∷ [])) ∷  -- alternatives-179
    (codes "nth 0 add X -g\r\n \r\nor nth \"2\" \"recipe-replace\" c \"\ttrue\" \"\"\r\n\r\n \"or\" all set a.b b\r\n\r\n or recipe-insert c 001 a\r\nundo\r\ntry add F |\r\nredo\r\n\"all\" append F \"\"\r\n \"drop\" a.b =\r\nend\r\n drop F \"-g\"\r\n\"recipe-insert\" c 1 a\r\n\"or\" add \"X\" \"$(t -g)\"\r\n", Ok (Chain (edit_on 1 (ChangeValue (One (Some 0)) (codes "X") (edits.Add (codes "-g")))) (edit_on 3 (SetRecipe (Some 2) (codes "c") (ByText (codes "\ttrue")) [])) ((edit_on 5 (ChangeValue Every (codes "a.b") (edits.Set (codes "b")))) ∷ (edit_on 7 (AddRecipe None (codes "c") (At 1) (codes "a"))) ∷ []) ∷ on_line 8 Undo ∷ tried_on 9 (ChangeValue (One None) (codes "F") (edits.Add (codes "|"))) ∷ on_line 10 Redo ∷ on_line 11 (Apply (ChangeValue Every (codes "F") (edits.Append []))) ∷ on_line 12 (Apply (ChangeValue (One None) (codes "a.b") (edits.Remove (codes "=")))) ∷ on_line 13 End ∷ on_line 14 (Apply (ChangeValue (One None) (codes "F") (edits.Remove (codes "-g")))) ∷ Chain (edit_on 15 (AddRecipe None (codes "c") (At 1) (codes "a"))) (edit_on 16 (ChangeValue (One None) (codes "X") (edits.Add (codes "$(t -g)")))) [] ∷ [])) ∷  -- alternatives-180
    (codes "try nth 1 set F 2\nall\tappend\tF\t-g\nrecipe-remove %.o \" a\"\n\nor nth 0 recipe %.o \"cÿ\"\nor \"set\" a.b \"\"\nor nth 2 unset F\n try  nth  1  \"append\"  F  \"a$ b\"\nbegin", Ok (tried_on 1 (ChangeValue (One (Some 1)) (codes "F") (edits.Set (codes "2"))) ∷ on_line 2 (Apply (ChangeValue Every (codes "F") (edits.Append (codes "-g")))) ∷ Chain (edit_on 3 (RemoveLines (OfRecipe None (codes "%.o") (ByText (codes " a"))))) (edit_on 5 (AddRecipe (Some 0) (codes "%.o") Last (codes "cÿ"))) ((edit_on 6 (ChangeValue (One None) (codes "a.b") (edits.Set []))) ∷ (edit_on 7 (RemoveLines (OfAssign (Some 2) (codes "F")))) ∷ []) ∷ tried_on 8 (ChangeValue (One (Some 1)) (codes "F") (edits.Append (codes "a$ b"))) ∷ on_line 9 Begin ∷ [])) ∷  -- alternatives-181
    (codes "\"try\" nth 002 set F a\nall drop F |\nnth 2 add F \"$(A -g)\"", Ok (tried_on 1 (ChangeValue (One (Some 2)) (codes "F") (edits.Set (codes "a"))) ∷ on_line 2 (Apply (ChangeValue Every (codes "F") (edits.Remove (codes "|")))) ∷ on_line 3 (Apply (ChangeValue (One (Some 2)) (codes "F") (edits.Add (codes "$(A -g)")))) ∷ [])) ∷  -- alternatives-182
    (codes "\"drop\" a.b \"a$ b\"\nnth 0 \"drop\" a.b \"-g\"\n\nor nth 0 recipe-insert d 2 \"ifdef Q\"\nor recipe-remove d true\ntry undepend d \"$x\"", Ok (on_line 1 (Apply (ChangeValue (One None) (codes "a.b") (edits.Remove (codes "a$ b")))) ∷ Chain (edit_on 2 (ChangeValue (One (Some 0)) (codes "a.b") (edits.Remove (codes "-g")))) (edit_on 4 (AddRecipe (Some 0) (codes "d") (At 2) (codes "ifdef Q"))) ((edit_on 5 (RemoveLines (OfRecipe None (codes "d") (ByText (codes "true"))))) ∷ []) ∷ tried_on 6 (ChangePrereqs None (codes "d") (RemovePrereq (codes "$x"))) ∷ [])) ∷  -- alternatives-183
    (codes "\"all\" drop F \"-g\"\nunset \"F\"\n\"all\" append override \\\\a\nnth 1 set F ${g(}\nundo\nall \"drop\" F \"$(s (b) a)\"\n", Ok (on_line 1 (Apply (ChangeValue Every (codes "F") (edits.Remove (codes "-g")))) ∷ on_line 2 (Apply (RemoveLines (OfAssign None (codes "F")))) ∷ on_line 3 (Apply (ChangeValue Every (codes "override") (edits.Append (codes "\\\\a")))) ∷ on_line 4 (Apply (ChangeValue (One (Some 1)) (codes "F") (edits.Set (codes "${g(}")))) ∷ on_line 5 Undo ∷ on_line 6 (Apply (ChangeValue Every (codes "F") (edits.Remove (codes "$(s (b) a)")))) ∷ [])) ∷  -- alternatives-184
    (codes "recipe-remove x.o true\n\"or\" drop F a\nor \"drop\" X b\n\nor all add F \"$(s (b) a)\"\nnth 1 set X .PHONY\nall drop F \\#\ndrop\tF\t\"-g\"\ntry \"drop\" \"F\" \"x$(a  b)\"\n", Ok (Chain (edit_on 1 (RemoveLines (OfRecipe None (codes "x.o") (ByText (codes "true"))))) (edit_on 2 (ChangeValue (One None) (codes "F") (edits.Remove (codes "a")))) ((edit_on 3 (ChangeValue (One None) (codes "X") (edits.Remove (codes "b")))) ∷ (edit_on 5 (ChangeValue Every (codes "F") (edits.Add (codes "$(s (b) a)")))) ∷ []) ∷ on_line 6 (Apply (ChangeValue (One (Some 1)) (codes "X") (edits.Set (codes ".PHONY")))) ∷ on_line 7 (Apply (ChangeValue Every (codes "F") (edits.Remove (codes "\\#")))) ∷ on_line 8 (Apply (ChangeValue (One None) (codes "F") (edits.Remove (codes "-g")))) ∷ tried_on 9 (ChangeValue (One None) (codes "F") (edits.Remove (codes "x$(a  b)"))) ∷ [])) ∷  -- alternatives-185
    (codes "nth 000 add X \"a$ b\"\n \nor\trecipe-replace\t\"d\"\t\"\"\t\"ifdef Q\"\n# c\nor nth \"002\" drop \"F\" \"$ \"\n\"nth\" 002 set X \"\\\\#\"\nbegin\nall set \"F\" -g\n# c\nor  add  \"X\"  =\n", Ok (Chain (edit_on 1 (ChangeValue (One (Some 0)) (codes "X") (edits.Add (codes "a$ b")))) (edit_on 3 (SetRecipe None (codes "d") (ByText []) (codes "ifdef Q"))) ((edit_on 5 (ChangeValue (One (Some 2)) (codes "F") (edits.Remove (codes "$ ")))) ∷ []) ∷ on_line 6 (Apply (ChangeValue (One (Some 2)) (codes "X") (edits.Set (codes "\\#")))) ∷ on_line 7 Begin ∷ Chain (edit_on 8 (ChangeValue Every (codes "F") (edits.Set (codes "-g")))) (edit_on 10 (ChangeValue (One None) (codes "X") (edits.Add (codes "=")))) [] ∷ [])) ∷  -- alternatives-186
    (codes "all drop X a\r\n\r\n\"or\" \"drop\" X -g\r\ntry \"unset\" \"a.b\"\r\n drop F -g\r\ndrop \"X\" \"-g\"\r\nall  set  \"X\"  \"$(s (b) a)\"\r\ntry all add F -g\r\n", Ok (Chain (edit_on 1 (ChangeValue Every (codes "X") (edits.Remove (codes "a")))) (edit_on 3 (ChangeValue (One None) (codes "X") (edits.Remove (codes "-g")))) [] ∷ tried_on 4 (RemoveLines (OfAssign None (codes "a.b"))) ∷ on_line 5 (Apply (ChangeValue (One None) (codes "F") (edits.Remove (codes "-g")))) ∷ on_line 6 (Apply (ChangeValue (One None) (codes "X") (edits.Remove (codes "-g")))) ∷ on_line 7 (Apply (ChangeValue Every (codes "X") (edits.Set (codes "$(s (b) a)")))) ∷ tried_on 8 (ChangeValue Every (codes "F") (edits.Add (codes "-g"))) ∷ [])) ∷  -- alternatives-187
    (codes "try all drop F -g\n", Ok (tried_on 1 (ChangeValue Every (codes "F") (edits.Remove (codes "-g"))) ∷ [])) ∷  -- alternatives-188
    (codes "\"all\" \"drop\" F $$\nnth 002 unset F\n\nor  all  add  \"F\"  \\#\nbegin\nnth 000 append F \"-g x$(a  b)\"\nor \"add\" \"F\" \"x=1\"\n\"drop\" F x=1\nend", Ok (on_line 1 (Apply (ChangeValue Every (codes "F") (edits.Remove (codes "$$")))) ∷ Chain (edit_on 2 (RemoveLines (OfAssign (Some 2) (codes "F")))) (edit_on 4 (ChangeValue Every (codes "F") (edits.Add (codes "\\#")))) [] ∷ on_line 5 Begin ∷ Chain (edit_on 6 (ChangeValue (One (Some 0)) (codes "F") (edits.Append (codes "-g x$(a  b)")))) (edit_on 7 (ChangeValue (One None) (codes "F") (edits.Add (codes "x=1")))) [] ∷ on_line 8 (Apply (ChangeValue (One None) (codes "F") (edits.Remove (codes "x=1")))) ∷ on_line 9 End ∷ [])) ∷  -- alternatives-189
    (codes "append F \"-g\"\n\nor drop X x=1\nor nth \"4294967295\" drop X \"a\\\\ b\"\n \nor  add  X  -g\nadd \"X\" ${c}\nall drop \"X\" \"|\"\nor drop X ${c}\ndrop X ${c}\nbegin\ndrop X ;\nor drop X -g\nor  drop  X  -g\n \nor  nth  4294967295  drop  X  \"a\\\\ b\"\n", Ok (Chain (edit_on 1 (ChangeValue (One None) (codes "F") (edits.Append (codes "-g")))) (edit_on 3 (ChangeValue (One None) (codes "X") (edits.Remove (codes "x=1")))) ((edit_on 4 (ChangeValue (One (Some 4294967295)) (codes "X") (edits.Remove (codes "a\\ b")))) ∷ (edit_on 6 (ChangeValue (One None) (codes "X") (edits.Add (codes "-g")))) ∷ []) ∷ on_line 7 (Apply (ChangeValue (One None) (codes "X") (edits.Add (codes "${c}")))) ∷ Chain (edit_on 8 (ChangeValue Every (codes "X") (edits.Remove (codes "|")))) (edit_on 9 (ChangeValue (One None) (codes "X") (edits.Remove (codes "${c}")))) [] ∷ on_line 10 (Apply (ChangeValue (One None) (codes "X") (edits.Remove (codes "${c}")))) ∷ on_line 11 Begin ∷ Chain (edit_on 12 (ChangeValue (One None) (codes "X") (edits.Remove (codes ";")))) (edit_on 13 (ChangeValue (One None) (codes "X") (edits.Remove (codes "-g")))) ((edit_on 14 (ChangeValue (One None) (codes "X") (edits.Remove (codes "-g")))) ∷ (edit_on 16 (ChangeValue (One (Some 4294967295)) (codes "X") (edits.Remove (codes "a\\ b")))) ∷ []) ∷ [])) ∷  -- alternatives-190
    (codes "\"try\" \"nth\" \"2\" drop F b\n\"recipe-replace\" c \" a\" true\nall add \"F\" \"$(w a)\"\nall drop F b\n\"nth\" 1 set F $(q:;=|)\nnth 1 add F \"a$ b\"", Ok (tried_on 1 (ChangeValue (One (Some 2)) (codes "F") (edits.Remove (codes "b"))) ∷ on_line 2 (Apply (SetRecipe None (codes "c") (ByText (codes " a")) (codes "true"))) ∷ on_line 3 (Apply (ChangeValue Every (codes "F") (edits.Add (codes "$(w a)")))) ∷ on_line 4 (Apply (ChangeValue Every (codes "F") (edits.Remove (codes "b")))) ∷ on_line 5 (Apply (ChangeValue (One (Some 1)) (codes "F") (edits.Set (codes "$(q:;=|)")))) ∷ on_line 6 (Apply (ChangeValue (One (Some 1)) (codes "F") (edits.Add (codes "a$ b")))) ∷ [])) ∷  -- alternatives-191
    (codes "nth 0 \"unset\" F\n \nor drop \"F\" \"\\\\#\"\nall drop F -g\n\"try\" unset override\nundo\n\"drop\"  F  -O2\n \n\"or\" \"rule\" before-var \"F\" b :: a&b\nunset \"F\"\n", Ok (Chain (edit_on 1 (RemoveLines (OfAssign (Some 0) (codes "F")))) (edit_on 3 (ChangeValue (One None) (codes "F") (edits.Remove (codes "\\#")))) [] ∷ on_line 4 (Apply (ChangeValue Every (codes "F") (edits.Remove (codes "-g")))) ∷ tried_on 5 (RemoveLines (OfAssign None (codes "override"))) ∷ on_line 6 Undo ∷ Chain (edit_on 7 (ChangeValue (One None) (codes "F") (edits.Remove (codes "-O2")))) (edit_on 9 (AddLine (BeforeVar None (codes "F")) (NewRule (codes "b") Double (codes "a&b")))) [] ∷ on_line 10 (Apply (RemoveLines (OfAssign None (codes "F")))) ∷ [])) ∷  -- alternatives-192
    (codes "nth \"001\" drop \"F\" \"b\"\nunset X\n", Ok (on_line 1 (Apply (ChangeValue (One (Some 1)) (codes "F") (edits.Remove (codes "b")))) ∷ on_line 2 (Apply (RemoveLines (OfAssign None (codes "X")))) ∷ [])) ∷  -- alternatives-193
    (codes "nth 1 add F \"$(t -g)\"\n# c\n or nth 001 drop \"F\" \"$ b\"\n \nor all append X \"-g $\\\\x\"\nor\tnth\t002\tadd\tF\tb\n\"recipe-insert\" \"c\" \"1\" \"# n\"\n\"or\" all add F \"$(t -g)\"\n\"all\" add F a\nnth 1 \"append\" F \"-O2\"\nbegin\n", Ok (Chain (edit_on 1 (ChangeValue (One (Some 1)) (codes "F") (edits.Add (codes "$(t -g)")))) (edit_on 3 (ChangeValue (One (Some 1)) (codes "F") (edits.Remove (codes "$ b")))) ((edit_on 5 (ChangeValue Every (codes "X") (edits.Append (codes "-g $\\x")))) ∷ (edit_on 6 (ChangeValue (One (Some 2)) (codes "F") (edits.Add (codes "b")))) ∷ []) ∷ Chain (edit_on 7 (AddRecipe None (codes "c") (At 1) (codes "# n"))) (edit_on 8 (ChangeValue Every (codes "F") (edits.Add (codes "$(t -g)")))) [] ∷ on_line 9 (Apply (ChangeValue Every (codes "F") (edits.Add (codes "a")))) ∷ on_line 10 (Apply (ChangeValue (One (Some 1)) (codes "F") (edits.Append (codes "-O2")))) ∷ on_line 11 Begin ∷ [])) ∷  -- alternatives-194
    (codes "nth 4294967295 \"recipe-insert\" d 1 true\nor all add \"X\" \"$ b\"\n \nor drop X a\\\\\n set X b\nredo\nnth \"1\" drop \"X\" b\n\"set\"\tX\t:\n", Ok (Chain (edit_on 1 (AddRecipe (Some 4294967295) (codes "d") (At 1) (codes "true"))) (edit_on 2 (ChangeValue Every (codes "X") (edits.Add (codes "$ b")))) ((edit_on 4 (ChangeValue (One None) (codes "X") (edits.Remove (codes "a\\\\")))) ∷ []) ∷ on_line 5 (Apply (ChangeValue (One None) (codes "X") (edits.Set (codes "b")))) ∷ on_line 6 Redo ∷ on_line 7 (Apply (ChangeValue (One (Some 1)) (codes "X") (edits.Remove (codes "b")))) ∷ on_line 8 (Apply (ChangeValue (One None) (codes "X") (edits.Set (codes ":")))) ∷ [])) ∷  -- alternatives-195
    (codes "\"try\" drop \"F\" \"$(a\tb)\"\nall drop F \"b\"\nrecipe-remove  d  \"say \\\"q\\\"\"\n", Ok (tried_on 1 (ChangeValue (One None) (codes "F") (edits.Remove (codes "$(a\tb)"))) ∷ on_line 2 (Apply (ChangeValue Every (codes "F") (edits.Remove (codes "b")))) ∷ on_line 3 (Apply (RemoveLines (OfRecipe None (codes "d") (ByText (codes "say \"q\""))))) ∷ [])) ∷  -- alternatives-196
    (codes "recipe-insert  c  1  true\n\n\"or\" nth 2 add X \"$(a b)\"\nor nth \"0\" unset F\n\"or\" nth 2 drop X a\n\"try\" recipe \"%.c\" cÿ\ntry add \"X\" \"a\\\\ b\"\nall drop \"X\" \"a\\\\ b\"\nall  append  X  \"\"\nset \"F\" \"\"\n", Ok (Chain (edit_on 1 (AddRecipe None (codes "c") (At 1) (codes "true"))) (edit_on 3 (ChangeValue (One (Some 2)) (codes "X") (edits.Add (codes "$(a b)")))) ((edit_on 4 (RemoveLines (OfAssign (Some 0) (codes "F")))) ∷ (edit_on 5 (ChangeValue (One (Some 2)) (codes "X") (edits.Remove (codes "a")))) ∷ []) ∷ tried_on 6 (AddRecipe None (codes "%.c") Last (codes "cÿ")) ∷ tried_on 7 (ChangeValue (One None) (codes "X") (edits.Add (codes "a\\ b"))) ∷ on_line 8 (Apply (ChangeValue Every (codes "X") (edits.Remove (codes "a\\ b")))) ∷ on_line 9 (Apply (ChangeValue Every (codes "X") (edits.Append []))) ∷ on_line 10 (Apply (ChangeValue (One None) (codes "F") (edits.Set []))) ∷ [])) ∷  -- alternatives-197
    (codes "append  \"F\"  \"\"\r\nbegin\r\nrule bottom $(q:;=|) :: \"\"\r\nrecipe-replace c a\r\nall add X$: \"a$ b\"\r\ndrop \"a.b\" \"b\"\r\nunset X\r\n\r\nor nth 2 recipe-remove d >a\r\nbegin\r\n nth  002  recipe-remove  %.o  true\r\nor\tnth\t4294967295\t\"recipe-remove\"\tc\t\"# n\"\r\nor \"recipe-set\" $(q:;=|) 2 \"\tb\"\r\nor \"all\" drop a.b \"x$(a  b)\"\r\n", Err 4) ∷  -- alternatives-198
    (codes "try nth 1 drop F b\n try \"add\" F -O2\ndrop F \"$(s (b) a)\"\n\"unset\" F\nset \"F\" \"$(A -g) -O2\"\n", Ok (tried_on 1 (ChangeValue (One (Some 1)) (codes "F") (edits.Remove (codes "b"))) ∷ tried_on 2 (ChangeValue (One None) (codes "F") (edits.Add (codes "-O2"))) ∷ on_line 3 (Apply (ChangeValue (One None) (codes "F") (edits.Remove (codes "$(s (b) a)")))) ∷ on_line 4 (Apply (RemoveLines (OfAssign None (codes "F")))) ∷ on_line 5 (Apply (ChangeValue (One None) (codes "F") (edits.Set (codes "$(A -g) -O2")))) ∷ [])) ∷  -- alternatives-199
    (codes "or try set F 1\r\n\"nth\" 000 drop \"F\" =\r\nor all append F $x\r\nrecipe-remove c \"say \\\"q\\\"\"\r\n# c\r\n\"or\" rename >tc %.o\r\ntry drop F b\r\ntry \"add\" \"F\" \"${c}\"\r\n", Err 1) ∷  -- alternatives-200
    (codes "set \"F\" x=1\ntry append \"F\" \"\"\n\"recipe-replace\" c true \" a\"\n\"all\" set a.b \"\"\n# c\n \"or\" nth 002 recipe-set c 1 t\n# c\nor \"all\" set \"F\" \"=\"\nor\t\"append\"\tF\t\"-include2 ${g(}\"\nundo\ntry  append  \"a.b\"  \"$\\\\x $x\"\ntry nth 4294967295 add F \"x=1\"\ntry recipe-insert \"c\" 2 true", Ok (on_line 1 (Apply (ChangeValue (One None) (codes "F") (edits.Set (codes "x=1")))) ∷ tried_on 2 (ChangeValue (One None) (codes "F") (edits.Append [])) ∷ on_line 3 (Apply (SetRecipe None (codes "c") (ByText (codes "true")) (codes " a"))) ∷ Chain (edit_on 4 (ChangeValue Every (codes "a.b") (edits.Set []))) (edit_on 6 (SetRecipe (Some 2) (codes "c") (ByNumber 1) (codes "t"))) ((edit_on 8 (ChangeValue Every (codes "F") (edits.Set (codes "=")))) ∷ (edit_on 9 (ChangeValue (One None) (codes "F") (edits.Append (codes "-include2 ${g(}")))) ∷ []) ∷ on_line 10 Undo ∷ tried_on 11 (ChangeValue (One None) (codes "a.b") (edits.Append (codes "$\\x $x"))) ∷ tried_on 12 (ChangeValue (One (Some 4294967295)) (codes "F") (edits.Add (codes "x=1"))) ∷ tried_on 13 (AddRecipe None (codes "c") (At 2) (codes "true")) ∷ [])) ∷  -- alternatives-201
    (codes " try drop \"F\" -O2\n\"add\" \"F\" -g\n# c\nor append a.b \"a\\\\ b\"\nor \"all\" drop \"F\" \\#\n# c\nor \"drop\" F \\#\nundo\n\"append\" F :\nunset\tF\nset \"X\" -g\nrecipe-remove c a b\n", Err 12) ∷  -- alternatives-202
    (codes "try \"add\" F \"$ b\"\nnth 4294967295 drop \"o-$(a b)\" -g\n drop  \"F\"  =\nnth\t\"2\"\tset\tendef\t\\#\n\"or\" \"add\" X \"a \"\n\"try\" nth 4294967295 add \"X\" \"x$(a  b)\"\n\"nth\" 0 rule before-var define c :: \"\"\nadd  F  \"a$ b\"\n", Ok (tried_on 1 (ChangeValue (One None) (codes "F") (edits.Add (codes "$ b"))) ∷ on_line 2 (Apply (ChangeValue (One (Some 4294967295)) (codes "o-$(a b)") (edits.Remove (codes "-g")))) ∷ on_line 3 (Apply (ChangeValue (One None) (codes "F") (edits.Remove (codes "=")))) ∷ Chain (edit_on 4 (ChangeValue (One (Some 2)) (codes "endef") (edits.Set (codes "\\#")))) (edit_on 5 (ChangeValue (One None) (codes "X") (edits.Add (codes "a ")))) [] ∷ tried_on 6 (ChangeValue (One (Some 4294967295)) (codes "X") (edits.Add (codes "x$(a  b)"))) ∷ on_line 7 (Apply (AddLine (BeforeVar (Some 0) (codes "define")) (NewRule (codes "c") Double []))) ∷ on_line 8 (Apply (ChangeValue (One None) (codes "F") (edits.Add (codes "a$ b")))) ∷ [])) ∷  -- alternatives-203
    (codes "begin\ndepend \"c\" -include2\n drop F -g\nrecipe-remove \"c\" \" a\"\nredo\nrecipe-insert c 1 \"a # b\"\n\"unset\" endef\n\nor recipe-insert c 1 true\nredo", Ok (on_line 1 Begin ∷ on_line 2 (Apply (ChangePrereqs None (codes "c") (AddPrereq false (codes "-include2")))) ∷ on_line 3 (Apply (ChangeValue (One None) (codes "F") (edits.Remove (codes "-g")))) ∷ on_line 4 (Apply (RemoveLines (OfRecipe None (codes "c") (ByText (codes " a"))))) ∷ on_line 5 Redo ∷ on_line 6 (Apply (AddRecipe None (codes "c") (At 1) (codes "a # b"))) ∷ Chain (edit_on 7 (RemoveLines (OfAssign None (codes "endef")))) (edit_on 9 (AddRecipe None (codes "c") (At 1) (codes "true"))) [] ∷ on_line 10 Redo ∷ [])) ∷  -- alternatives-204
    (codes "try all drop \"F\" a\n", Ok (tried_on 1 (ChangeValue Every (codes "F") (edits.Remove (codes "a"))) ∷ [])) ∷  -- alternatives-205
    (codes "add F -g\n\"drop\"\tF\t\"-g\"\ndrop F \"x$(a  b)\"\n# c\nor rule bottom foo : \"-include2 b\"\nadd\tF\t\"$(w a)\"\n# or\n\"drop\" F \"$(w a)\"\n add F \"x=1\"", Ok (on_line 1 (Apply (ChangeValue (One None) (codes "F") (edits.Add (codes "-g")))) ∷ on_line 2 (Apply (ChangeValue (One None) (codes "F") (edits.Remove (codes "-g")))) ∷ Chain (edit_on 3 (ChangeValue (One None) (codes "F") (edits.Remove (codes "x$(a  b)")))) (edit_on 5 (AddLine Bottom (NewRule (codes "foo") Single (codes "-include2 b")))) [] ∷ on_line 6 (Apply (ChangeValue (One None) (codes "F") (edits.Add (codes "$(w a)")))) ∷ on_line 8 (Apply (ChangeValue (One None) (codes "F") (edits.Remove (codes "$(w a)")))) ∷ on_line 9 (Apply (ChangeValue (One None) (codes "F") (edits.Add (codes "x=1")))) ∷ [])) ∷  -- alternatives-206
    (codes "end\n\"drop\" F \"-O2\"\n", Ok (on_line 1 End ∷ on_line 2 (Apply (ChangeValue (One None) (codes "F") (edits.Remove (codes "-O2")))) ∷ [])) ∷  -- alternatives-207
    (codes "nth 2 \"recipe\" \"c\" x\ntry \"set\" \"F\" \"$(t -g)\"\nall add a.b \"$(A -g)\"\nundo\nnth 002 recipe-replace c \"say \\\"q\\\"\" \"say \\\"q\\\"\"\n append F \\#\nundepend \"$(a b)\" c\ntry nth \"1\" unset F\nall \"drop\" X a", Ok (on_line 1 (Apply (AddRecipe (Some 2) (codes "c") Last (codes "x"))) ∷ tried_on 2 (ChangeValue (One None) (codes "F") (edits.Set (codes "$(t -g)"))) ∷ on_line 3 (Apply (ChangeValue Every (codes "a.b") (edits.Add (codes "$(A -g)")))) ∷ on_line 4 Undo ∷ on_line 5 (Apply (SetRecipe (Some 2) (codes "c") (ByText (codes "say \"q\"")) (codes "say \"q\""))) ∷ on_line 6 (Apply (ChangeValue (One None) (codes "F") (edits.Append (codes "\\#")))) ∷ on_line 7 (Apply (ChangePrereqs None (codes "$(a b)") (RemovePrereq (codes "c")))) ∷ tried_on 8 (RemoveLines (OfAssign (Some 1) (codes "F"))) ∷ on_line 9 (Apply (ChangeValue Every (codes "X") (edits.Remove (codes "a")))) ∷ [])) ∷  -- alternatives-208
    (codes "try all set \"F\" \"a$ b a\"\r\nall set F \"\"\r\nnth  \"1\"  set  F  \"; $(a b)\"\r\n\"nth\"\t1\t\"depend-order\"\tc\tt\r\nnth 2 add F x=1\r\nnth 2 \"recipe-remove\" \"c\" \" a\"\r\n\r\nor\tall\t\"drop\"\tF\t\"$(a b)\"\r\nnth 002 recipe-insert c 1 \"true\"\r\n \r\nor set \"X\" a\r\nor all append X ${c}\r\n nth 1 \"recipe-replace\" \"c\" \"rm -rf x\" true\r\nall  set  F  \"$(s (b) a)\"\r\nnth\t2\tdrop\tF\t\"$(s (b) a)\"\r\n", Ok (tried_on 1 (ChangeValue Every (codes "F") (edits.Set (codes "a$ b a"))) ∷ on_line 2 (Apply (ChangeValue Every (codes "F") (edits.Set []))) ∷ on_line 3 (Apply (ChangeValue (One (Some 1)) (codes "F") (edits.Set (codes "; $(a b)")))) ∷ on_line 4 (Apply (ChangePrereqs (Some 1) (codes "c") (AddPrereq true (codes "t")))) ∷ on_line 5 (Apply (ChangeValue (One (Some 2)) (codes "F") (edits.Add (codes "x=1")))) ∷ Chain (edit_on 6 (RemoveLines (OfRecipe (Some 2) (codes "c") (ByText (codes " a"))))) (edit_on 8 (ChangeValue Every (codes "F") (edits.Remove (codes "$(a b)")))) [] ∷ Chain (edit_on 9 (AddRecipe (Some 2) (codes "c") (At 1) (codes "true"))) (edit_on 11 (ChangeValue (One None) (codes "X") (edits.Set (codes "a")))) ((edit_on 12 (ChangeValue Every (codes "X") (edits.Append (codes "${c}")))) ∷ []) ∷ on_line 13 (Apply (SetRecipe (Some 1) (codes "c") (ByText (codes "rm -rf x")) (codes "true"))) ∷ on_line 14 (Apply (ChangeValue Every (codes "F") (edits.Set (codes "$(s (b) a)")))) ∷ on_line 15 (Apply (ChangeValue (One (Some 2)) (codes "F") (edits.Remove (codes "$(s (b) a)")))) ∷ [])) ∷  -- alternatives-209
    (codes "nth 1 set F \"\"\nunset \"F\"\n\"drop\" override a:b\n nth \"4294967295\" unset X\nor drop override \"a$ b\"\nor drop override \"-g\"\n \nor add override \"$(s (b) a)\"\n unset a.b\nor\tunset\toverride\nundo\nadd override a\n drop \"F\" \"$(w a)\"\n \nor drop override a\nor drop override a\n# c\n or  set  \"override\"  $\\x\n", Ok (on_line 1 (Apply (ChangeValue (One (Some 1)) (codes "F") (edits.Set []))) ∷ on_line 2 (Apply (RemoveLines (OfAssign None (codes "F")))) ∷ on_line 3 (Apply (ChangeValue (One None) (codes "override") (edits.Remove (codes "a:b")))) ∷ Chain (edit_on 4 (RemoveLines (OfAssign (Some 4294967295) (codes "X")))) (edit_on 5 (ChangeValue (One None) (codes "override") (edits.Remove (codes "a$ b")))) ((edit_on 6 (ChangeValue (One None) (codes "override") (edits.Remove (codes "-g")))) ∷ (edit_on 8 (ChangeValue (One None) (codes "override") (edits.Add (codes "$(s (b) a)")))) ∷ []) ∷ Chain (edit_on 9 (RemoveLines (OfAssign None (codes "a.b")))) (edit_on 10 (RemoveLines (OfAssign None (codes "override")))) [] ∷ on_line 11 Undo ∷ on_line 12 (Apply (ChangeValue (One None) (codes "override") (edits.Add (codes "a")))) ∷ Chain (edit_on 13 (ChangeValue (One None) (codes "F") (edits.Remove (codes "$(w a)")))) (edit_on 15 (ChangeValue (One None) (codes "override") (edits.Remove (codes "a")))) ((edit_on 16 (ChangeValue (One None) (codes "override") (edits.Remove (codes "a")))) ∷ (edit_on 18 (ChangeValue (One None) (codes "override") (edits.Set (codes "$\\x")))) ∷ []) ∷ [])) ∷  -- alternatives-210
    (codes "rule \"before-var\" \"F\" a :: foo\nundo\n\"try\" \"drop\" F b\nall\t\"drop\"\tF\t$$\n", Ok (on_line 1 (Apply (AddLine (BeforeVar None (codes "F")) (NewRule (codes "a") Double (codes "foo")))) ∷ on_line 2 Undo ∷ tried_on 3 (ChangeValue (One None) (codes "F") (edits.Remove (codes "b"))) ∷ on_line 4 (Apply (ChangeValue Every (codes "F") (edits.Remove (codes "$$")))) ∷ [])) ∷  -- alternatives-211
    (codes "try nth 2 recipe-set \"c\" 1 \"\tb\"\nnth 4294967295 \"depend-order\" \"c\" foo\n# c\nor recipe-replace c a \"# n\"\n\"all\" drop F x=1\n", Ok (tried_on 1 (SetRecipe (Some 2) (codes "c") (ByNumber 1) (codes "\tb")) ∷ Chain (edit_on 2 (ChangePrereqs (Some 4294967295) (codes "c") (AddPrereq true (codes "foo")))) (edit_on 4 (SetRecipe None (codes "c") (ByText (codes "a")) (codes "# n"))) [] ∷ on_line 5 (Apply (ChangeValue Every (codes "F") (edits.Remove (codes "x=1")))) ∷ [])) ∷  -- alternatives-212
    (codes "recipe-remove \"c\" \"a # b\"\nall\tdrop\tX\t\"x$(a  b)\"\nnth 1 add X x=1\nor all append X \"$(t -g)\"", Ok (on_line 1 (Apply (RemoveLines (OfRecipe None (codes "c") (ByText (codes "a # b"))))) ∷ on_line 2 (Apply (ChangeValue Every (codes "X") (edits.Remove (codes "x$(a  b)")))) ∷ Chain (edit_on 3 (ChangeValue (One (Some 1)) (codes "X") (edits.Add (codes "x=1")))) (edit_on 4 (ChangeValue Every (codes "X") (edits.Append (codes "$(t -g)")))) [] ∷ [])) ∷  -- alternatives-213
    (codes "\"try\"\tset\tX\t\"$(w a)\"\n drop F \"a:b\"\nall  append  F  \"$(a b)\"\ntry \"nth\" 001 recipe-replace c \"# n\" \"\ttrue\"\ndrop F \"$(a b)\"", Ok (tried_on 1 (ChangeValue (One None) (codes "X") (edits.Set (codes "$(w a)"))) ∷ on_line 2 (Apply (ChangeValue (One None) (codes "F") (edits.Remove (codes "a:b")))) ∷ on_line 3 (Apply (ChangeValue Every (codes "F") (edits.Append (codes "$(a b)")))) ∷ tried_on 4 (SetRecipe (Some 1) (codes "c") (ByText (codes "# n")) (codes "\ttrue")) ∷ on_line 5 (Apply (ChangeValue (One None) (codes "F") (edits.Remove (codes "$(a b)")))) ∷ [])) ∷  -- alternatives-214
    (codes "nth  4294967295  recipe-replace  c  \"# n\"  true\n\"drop\" \"o-$(a b)\" b\nrule  before-var  F  \"\"  :  %.o\nall\tadd\tF\t\"-O2\"\n \nor \"add\" F -O2\n", Ok (on_line 1 (Apply (SetRecipe (Some 4294967295) (codes "c") (ByText (codes "# n")) (codes "true"))) ∷ on_line 2 (Apply (ChangeValue (One None) (codes "o-$(a b)") (edits.Remove (codes "b")))) ∷ on_line 3 (Apply (AddLine (BeforeVar None (codes "F")) (NewRule [] Single (codes "%.o")))) ∷ Chain (edit_on 4 (ChangeValue Every (codes "F") (edits.Add (codes "-O2")))) (edit_on 6 (ChangeValue (One None) (codes "F") (edits.Add (codes "-O2")))) [] ∷ [])) ∷  -- alternatives-215
    (codes "nth 000 add F x=1\r\nor rename \"b\" -include2\r\nor rule \"before-rule\" d a&b \"::\" \"\"\r\n# c\r\n\"or\" set X -include2\r\nundo\r\nnth \"000\" drop \"F\" -g\r\nor\trecipe-insert\td\t002\t\"t\"\r\nunset X", Ok (Chain (edit_on 1 (ChangeValue (One (Some 0)) (codes "F") (edits.Add (codes "x=1")))) (edit_on 2 (RenameTarget (codes "b") (codes "-include2"))) ((edit_on 3 (AddLine (BeforeRule None (codes "d")) (NewRule (codes "a&b") Double []))) ∷ (edit_on 5 (ChangeValue (One None) (codes "X") (edits.Set (codes "-include2")))) ∷ []) ∷ on_line 6 Undo ∷ Chain (edit_on 7 (ChangeValue (One (Some 0)) (codes "F") (edits.Remove (codes "-g")))) (edit_on 8 (AddRecipe None (codes "d") (At 2) (codes "t"))) [] ∷ on_line 9 (Apply (RemoveLines (OfAssign None (codes "X")))) ∷ [])) ∷  -- alternatives-216
    (codes "try nth 2 recipe-replace c >a \"# n\"\n all set F \"a\\\\ b\"\n \t\nnth \"0\" \"unset\" X\n\"or\" \"all\" set F \"\"\nundo\nunset \"F\"\nrule bottom \"$(a b)\" \"::\" \"\"\n unrule \"$(a b)\"\n all  add  F  \"$\\\\x\"\nor rule bottom \"a&b $(s\\\\)\" : \"$(q:;=|) ${g(}\"\nrecipe-remove a&b \"rm -f x\"\n\nor recipe-replace a&b \"true\" \"# n\"\nor \"recipe-insert\" $(s\\) 1 b\n", Ok (tried_on 1 (SetRecipe (Some 2) (codes "c") (ByText (codes ">a")) (codes "# n")) ∷ on_line 2 (Apply (ChangeValue Every (codes "F") (edits.Set (codes "a\\ b")))) ∷ Chain (edit_on 4 (RemoveLines (OfAssign (Some 0) (codes "X")))) (edit_on 5 (ChangeValue Every (codes "F") (edits.Set []))) [] ∷ on_line 6 Undo ∷ on_line 7 (Apply (RemoveLines (OfAssign None (codes "F")))) ∷ on_line 8 (Apply (AddLine Bottom (NewRule (codes "$(a b)") Double []))) ∷ on_line 9 (Apply (RemoveLines (OfRule None (codes "$(a b)")))) ∷ Chain (edit_on 10 (ChangeValue Every (codes "F") (edits.Add (codes "$\\x")))) (edit_on 11 (AddLine Bottom (NewRule (codes "a&b $(s\\)") Single (codes "$(q:;=|) ${g(}")))) [] ∷ Chain (edit_on 12 (RemoveLines (OfRecipe None (codes "a&b") (ByText (codes "rm -f x"))))) (edit_on 14 (SetRecipe None (codes "a&b") (ByText (codes "true")) (codes "# n"))) ((edit_on 15 (AddRecipe None (codes "$(s\\)") (At 1) (codes "b"))) ∷ []) ∷ [])) ∷  -- alternatives-217
    (codes "drop F ;\r\nnth 2 drop \"F\" a\r\n# c\r\n\"or\" unset X\r\n \r\n\"or\" drop F a\r\n drop F \"-g\"\r\nor append override \"$(A -g)\"\r\n\r\nor \"add\" F =\r\ntry drop \"F\" -g\r\nundo\r\n", Ok (on_line 1 (Apply (ChangeValue (One None) (codes "F") (edits.Remove (codes ";")))) ∷ Chain (edit_on 2 (ChangeValue (One (Some 2)) (codes "F") (edits.Remove (codes "a")))) (edit_on 4 (RemoveLines (OfAssign None (codes "X")))) ((edit_on 6 (ChangeValue (One None) (codes "F") (edits.Remove (codes "a")))) ∷ []) ∷ Chain (edit_on 7 (ChangeValue (One None) (codes "F") (edits.Remove (codes "-g")))) (edit_on 8 (ChangeValue (One None) (codes "override") (edits.Append (codes "$(A -g)")))) ((edit_on 10 (ChangeValue (One None) (codes "F") (edits.Add (codes "=")))) ∷ []) ∷ tried_on 11 (ChangeValue (One None) (codes "F") (edits.Remove (codes "-g"))) ∷ on_line 12 Undo ∷ [])) ∷  -- alternatives-218
    (codes "try\t\"recipe-replace\"\td\ttrue\t\"a\"\ntry nth 1 set F 2\ndrop X -g\n\nor recipe-insert d 002 \"\ttrue\"\n\"nth\"\t1\trecipe-replace\td\t\"say \\\"q\\\"\"\ttrue\nor  nth  2  \"recipe-insert\"  d  \"1\"  \"\"\n# c\n\"or\"  nth  \"0\"  \"recipe-remove\"  d  \"rm -rf x\"\n# c\nor recipe-replace d \"\ttrue\" b\n", Ok (tried_on 1 (SetRecipe None (codes "d") (ByText (codes "true")) (codes "a")) ∷ tried_on 2 (ChangeValue (One (Some 1)) (codes "F") (edits.Set (codes "2"))) ∷ Chain (edit_on 3 (ChangeValue (One None) (codes "X") (edits.Remove (codes "-g")))) (edit_on 5 (AddRecipe None (codes "d") (At 2) (codes "\ttrue"))) [] ∷ Chain (edit_on 6 (SetRecipe (Some 1) (codes "d") (ByText (codes "say \"q\"")) (codes "true"))) (edit_on 7 (AddRecipe (Some 2) (codes "d") (At 1) [])) ((edit_on 9 (RemoveLines (OfRecipe (Some 0) (codes "d") (ByText (codes "rm -rf x"))))) ∷ (edit_on 11 (SetRecipe None (codes "d") (ByText (codes "\ttrue")) (codes "b"))) ∷ []) ∷ [])) ∷  -- alternatives-219
    (codes " recipe-remove \"inclendefe\" >a\nrecipe-insert d \"001\" true\nrecipe-replace inclendefe \"\ttrue\" \"\ttrue\"\n\nor drop F -O2\n\nor \"recipe-remove\" \"inclendefe\" \"ifdef Q\"\nnth\t\"2\"\trecipe-insert\tinclendefe\t1\t\"a # b\"\n\"or\" recipe-replace inclendefe \"rm -rf x\" \"rm -rf x\"\n\n\"or\" \"recipe-remove\" \"inclendefe\" \"ifdef Q\"\nor nth 2 unrule inclendefe\nrecipe-replace inclendefe \"a # b\" \"rm -f x\"\nrecipe-replace inclendefe \"rm -f x\" \"\"\nend\n", Ok (on_line 1 (Apply (RemoveLines (OfRecipe None (codes "inclendefe") (ByText (codes ">a"))))) ∷ on_line 2 (Apply (AddRecipe None (codes "d") (At 1) (codes "true"))) ∷ Chain (edit_on 3 (SetRecipe None (codes "inclendefe") (ByText (codes "\ttrue")) (codes "\ttrue"))) (edit_on 5 (ChangeValue (One None) (codes "F") (edits.Remove (codes "-O2")))) ((edit_on 7 (RemoveLines (OfRecipe None (codes "inclendefe") (ByText (codes "ifdef Q"))))) ∷ []) ∷ Chain (edit_on 8 (AddRecipe (Some 2) (codes "inclendefe") (At 1) (codes "a # b"))) (edit_on 9 (SetRecipe None (codes "inclendefe") (ByText (codes "rm -rf x")) (codes "rm -rf x"))) ((edit_on 11 (RemoveLines (OfRecipe None (codes "inclendefe") (ByText (codes "ifdef Q"))))) ∷ (edit_on 12 (RemoveLines (OfRule (Some 2) (codes "inclendefe")))) ∷ []) ∷ on_line 13 (Apply (SetRecipe None (codes "inclendefe") (ByText (codes "a # b")) (codes "rm -f x"))) ∷ on_line 14 (Apply (SetRecipe None (codes "inclendefe") (ByText (codes "rm -f x")) [])) ∷ on_line 15 End ∷ [])) ∷  -- alternatives-220
    (codes "drop  F  \";\"", Ok (on_line 1 (Apply (ChangeValue (One None) (codes "F") (edits.Remove (codes ";")))) ∷ [])) ∷  -- alternatives-221
    (codes "try \"drop\" F ;\n all\tappend\tF\t\"-g b\"\n\"all\" add \"F\" -g\n# c\nor \"add\" \"F\" -g\n or \"nth\" 4294967295 \"set\" F \":\"\nor  all  add  \"F\"  a\n\"try\" append F 1\ndrop F \\#\nadd\t\"F\"\t\"b\"\n\"all\" append F \"; a:b\"\nundo\n", Ok (tried_on 1 (ChangeValue (One None) (codes "F") (edits.Remove (codes ";"))) ∷ on_line 2 (Apply (ChangeValue Every (codes "F") (edits.Append (codes "-g b")))) ∷ Chain (edit_on 3 (ChangeValue Every (codes "F") (edits.Add (codes "-g")))) (edit_on 5 (ChangeValue (One None) (codes "F") (edits.Add (codes "-g")))) ((edit_on 6 (ChangeValue (One (Some 4294967295)) (codes "F") (edits.Set (codes ":")))) ∷ (edit_on 7 (ChangeValue Every (codes "F") (edits.Add (codes "a")))) ∷ []) ∷ tried_on 8 (ChangeValue (One None) (codes "F") (edits.Append (codes "1"))) ∷ on_line 9 (Apply (ChangeValue (One None) (codes "F") (edits.Remove (codes "\\#")))) ∷ on_line 10 (Apply (ChangeValue (One None) (codes "F") (edits.Add (codes "b")))) ∷ on_line 11 (Apply (ChangeValue Every (codes "F") (edits.Append (codes "; a:b")))) ∷ on_line 12 Undo ∷ [])) ∷  -- alternatives-222
    (codes " all drop F $x\n", Ok (on_line 1 (Apply (ChangeValue Every (codes "F") (edits.Remove (codes "$x")))) ∷ [])) ∷  -- alternatives-223
    (codes "\"drop\" F \"a$ b\"\nundo\n\"try\" nth 2 \"unset\" F\n\"drop\"  X  ;\nnth 4294967295 drop \"X\" \"a$ b\"\n\n\"or\" recipe-insert \"x.o\" 1 true\n\"recipe-replace\" d \"x \\\\ y\" \"rm -rf x\"\ndrop \"X$ \" \"a\"\ntry \"unrule\" \"d\"\n", Ok (on_line 1 (Apply (ChangeValue (One None) (codes "F") (edits.Remove (codes "a$ b")))) ∷ on_line 2 Undo ∷ tried_on 3 (RemoveLines (OfAssign (Some 2) (codes "F"))) ∷ on_line 4 (Apply (ChangeValue (One None) (codes "X") (edits.Remove (codes ";")))) ∷ Chain (edit_on 5 (ChangeValue (One (Some 4294967295)) (codes "X") (edits.Remove (codes "a$ b")))) (edit_on 7 (AddRecipe None (codes "x.o") (At 1) (codes "true"))) [] ∷ on_line 8 (Apply (SetRecipe None (codes "d") (ByText (codes "x \\ y")) (codes "rm -rf x"))) ∷ on_line 9 (Apply (ChangeValue (One None) (codes "X$ ") (edits.Remove (codes "a")))) ∷ tried_on 10 (RemoveLines (OfRule None (codes "d"))) ∷ [])) ∷  -- alternatives-224
    (codes "try nth 0 set override -O2\ncancel\ntry\trecipe-remove\tinclude\tb\nall \"append\" F \"$(t -g) x$(a  b)\"\n\"or\" recipe-insert include 1 true\nrecipe-insert \"include\" \"1\" \"a # b\"\nunset a.b\n \nor nth 2 \"add\" F \"x$(a  b)\"\nor rename include x.o\n\nor recipe-remove include \"\ttrue\"\n\"nth\" 4294967295 add \"F\" =\nor recipe-insert include 1 \"\ttrue\"\nnth 2 recipe-insert include 001 >a", Ok (tried_on 1 (ChangeValue (One (Some 0)) (codes "override") (edits.Set (codes "-O2"))) ∷ on_line 2 Cancel ∷ tried_on 3 (RemoveLines (OfRecipe None (codes "include") (ByText (codes "b")))) ∷ Chain (edit_on 4 (ChangeValue Every (codes "F") (edits.Append (codes "$(t -g) x$(a  b)")))) (edit_on 5 (AddRecipe None (codes "include") (At 1) (codes "true"))) [] ∷ on_line 6 (Apply (AddRecipe None (codes "include") (At 1) (codes "a # b"))) ∷ Chain (edit_on 7 (RemoveLines (OfAssign None (codes "a.b")))) (edit_on 9 (ChangeValue (One (Some 2)) (codes "F") (edits.Add (codes "x$(a  b)")))) ((edit_on 10 (RenameTarget (codes "include") (codes "x.o"))) ∷ (edit_on 12 (RemoveLines (OfRecipe None (codes "include") (ByText (codes "\ttrue"))))) ∷ []) ∷ Chain (edit_on 13 (ChangeValue (One (Some 4294967295)) (codes "F") (edits.Add (codes "=")))) (edit_on 14 (AddRecipe None (codes "include") (At 1) (codes "\ttrue"))) [] ∷ on_line 15 (Apply (AddRecipe (Some 2) (codes "include") (At 1) (codes ">a"))) ∷ [])) ∷  -- alternatives-225
    (codes "\"nth\" 0 recipe-insert d 1 \"# n\"\n# c\nor all drop F -g\n\"all\" drop F \"-g\"\nundepend \"d\" ${c}\n# c\nor \"nth\" 2 unset \"F\"\nall\tdrop\toverride\tb", Ok (Chain (edit_on 1 (AddRecipe (Some 0) (codes "d") (At 1) (codes "# n"))) (edit_on 3 (ChangeValue Every (codes "F") (edits.Remove (codes "-g")))) [] ∷ on_line 4 (Apply (ChangeValue Every (codes "F") (edits.Remove (codes "-g")))) ∷ Chain (edit_on 5 (ChangePrereqs None (codes "d") (RemovePrereq (codes "${c}")))) (edit_on 7 (RemoveLines (OfAssign (Some 2) (codes "F")))) [] ∷ on_line 8 (Apply (ChangeValue Every (codes "override") (edits.Remove (codes "b")))) ∷ [])) ∷  -- alternatives-226
    (codes "drop a.b -O2\n\"drop\" a.b b\n\"or\" \"nth\" 4294967295 recipe-remove c \"# n\"\n \nor nth \"1\" recipe c \"x\"\ntry  add  a.b  b\nnth  1  add  a.b  x=1\ndrop a.b x=1\nall \"set\" a.b -O2\nadd a.b \\#", Ok (on_line 1 (Apply (ChangeValue (One None) (codes "a.b") (edits.Remove (codes "-O2")))) ∷ Chain (edit_on 2 (ChangeValue (One None) (codes "a.b") (edits.Remove (codes "b")))) (edit_on 3 (RemoveLines (OfRecipe (Some 4294967295) (codes "c") (ByText (codes "# n"))))) ((edit_on 5 (AddRecipe (Some 1) (codes "c") Last (codes "x"))) ∷ []) ∷ tried_on 6 (ChangeValue (One None) (codes "a.b") (edits.Add (codes "b"))) ∷ on_line 7 (Apply (ChangeValue (One (Some 1)) (codes "a.b") (edits.Add (codes "x=1")))) ∷ on_line 8 (Apply (ChangeValue (One None) (codes "a.b") (edits.Remove (codes "x=1")))) ∷ on_line 9 (Apply (ChangeValue Every (codes "a.b") (edits.Set (codes "-O2")))) ∷ on_line 10 (Apply (ChangeValue (One None) (codes "a.b") (edits.Add (codes "\\#")))) ∷ [])) ∷  -- alternatives-227
    (codes "\"recipe-remove\" c true\r\nall drop override \"$(a b)\"\r\n \r\n or all \"drop\" \"F\" b\r\n\r\nor  recipe-replace  \"c\"  \"rm -rf x\"  \"\"\r\n# c\r\nor recipe-insert c 001 >a\r\nrecipe-insert c 1 true\r\ntry all drop F -g\r\nbegin\r\nrecipe-remove\tc\t\"true\"\r\n# c\r\nor \"nth\" 1 unset F\r\nor set F \"${c} \\\\#\"\r\nrecipe-replace c a \" a\"\r\nrecipe-replace \"c\" \"a\" a\r\ntry recipe-remove c t\r\n", Ok (on_line 1 (Apply (RemoveLines (OfRecipe None (codes "c") (ByText (codes "true"))))) ∷ Chain (edit_on 2 (ChangeValue Every (codes "override") (edits.Remove (codes "$(a b)")))) (edit_on 4 (ChangeValue Every (codes "F") (edits.Remove (codes "b")))) ((edit_on 6 (SetRecipe None (codes "c") (ByText (codes "rm -rf x")) [])) ∷ (edit_on 8 (AddRecipe None (codes "c") (At 1) (codes ">a"))) ∷ []) ∷ on_line 9 (Apply (AddRecipe None (codes "c") (At 1) (codes "true"))) ∷ tried_on 10 (ChangeValue Every (codes "F") (edits.Remove (codes "-g"))) ∷ on_line 11 Begin ∷ Chain (edit_on 12 (RemoveLines (OfRecipe None (codes "c") (ByText (codes "true"))))) (edit_on 14 (RemoveLines (OfAssign (Some 1) (codes "F")))) ((edit_on 15 (ChangeValue (One None) (codes "F") (edits.Set (codes "${c} \\#")))) ∷ []) ∷ on_line 16 (Apply (SetRecipe None (codes "c") (ByText (codes "a")) (codes " a"))) ∷ on_line 17 (Apply (SetRecipe None (codes "c") (ByText (codes "a")) (codes "a"))) ∷ tried_on 18 (RemoveLines (OfRecipe None (codes "c") (ByText (codes "t")))) ∷ [])) ∷  -- alternatives-228
    []

answers_5 : map (λ row. read_script row.0) rows_5 ≡ map (λ row. row.1) rows_5
unfolding line_len lines_from
answers_5 = refl

abbrev rows_6 : List (List ℕ × Result (List Step) ℕ)
rows_6 =
    (codes "append F \"\"\r\n\r\n\"or\" \"set\" override \"\"\r\n\r\nor unset a.b\r\ntry unset F\r\nappend F \"$(A -g)\"\r\n# c\r\n or drop \"a.b\" \"${c}\"\r\ndrop\ta.b\t\\\\\r\nunset  F\r\nor set F \"\"\r\n# c\r\nor nth 002 \"add\" a.b ${c}\r\n", Ok (Chain (edit_on 1 (ChangeValue (One None) (codes "F") (edits.Append []))) (edit_on 3 (ChangeValue (One None) (codes "override") (edits.Set []))) ((edit_on 5 (RemoveLines (OfAssign None (codes "a.b")))) ∷ []) ∷ tried_on 6 (RemoveLines (OfAssign None (codes "F"))) ∷ Chain (edit_on 7 (ChangeValue (One None) (codes "F") (edits.Append (codes "$(A -g)")))) (edit_on 9 (ChangeValue (One None) (codes "a.b") (edits.Remove (codes "${c}")))) [] ∷ on_line 10 (Apply (ChangeValue (One None) (codes "a.b") (edits.Remove (codes "\\\\")))) ∷ Chain (edit_on 11 (RemoveLines (OfAssign None (codes "F")))) (edit_on 12 (ChangeValue (One None) (codes "F") (edits.Set []))) ((edit_on 14 (ChangeValue (One (Some 2)) (codes "a.b") (edits.Add (codes "${c}")))) ∷ []) ∷ [])) ∷  -- alternatives-229
    (codes "nth  001  recipe-replace  c  \"t\"  \"t\"\n nth 1 depend \"c\" a&b\ntry\tnth\t0\t\"set\"\ta.b\t\"$ a\"\nadd define \"a\\\\ b\"\ntry \"nth\" 2 \"recipe-replace\" c b \"ifdef Q\"\n drop\tdefine\t\"a\\\\ b\"\nnth 0 drop define \"x$(a  b)\"\nundo\n", Ok (on_line 1 (Apply (SetRecipe (Some 1) (codes "c") (ByText (codes "t")) (codes "t"))) ∷ on_line 2 (Apply (ChangePrereqs (Some 1) (codes "c") (AddPrereq false (codes "a&b")))) ∷ tried_on 3 (ChangeValue (One (Some 0)) (codes "a.b") (edits.Set (codes "$ a"))) ∷ on_line 4 (Apply (ChangeValue (One None) (codes "define") (edits.Add (codes "a\\ b")))) ∷ tried_on 5 (SetRecipe (Some 2) (codes "c") (ByText (codes "b")) (codes "ifdef Q")) ∷ on_line 6 (Apply (ChangeValue (One None) (codes "define") (edits.Remove (codes "a\\ b")))) ∷ on_line 7 (Apply (ChangeValue (One (Some 0)) (codes "define") (edits.Remove (codes "x$(a  b)")))) ∷ on_line 8 Undo ∷ [])) ∷  -- alternatives-230
    (codes "try all drop F -g\ntry  \"nth\"  4294967295  drop  a.b  \"-O2\"\nset \"a.b\" \"${c}\"\nor or set F 1\nnth \"002\" recipe-insert c \"1\" a\n \nor nth 0 unset X\ndrop \"a.b\" ${c}\ntry nth 2 \"drop\" a.b \"$(a b)\"\n\"try\" assign bottom t != \"\"\nnth 0 drop t x=1\ndrop t \"a\"\nor nth 2 add t ${c}\n# c\nor \"set\" X a:b\n", Err 4) ∷  -- alternatives-231
    (codes "add F a\n# or\ndrop a.b b\n\"assign\" bottom CC \"!=\" \"\"\n\"all\" set a.b a\n try append F \"a\"\ndrop \"a.b\" a\n", Ok (on_line 1 (Apply (ChangeValue (One None) (codes "F") (edits.Add (codes "a")))) ∷ on_line 3 (Apply (ChangeValue (One None) (codes "a.b") (edits.Remove (codes "b")))) ∷ on_line 4 (Apply (AddLine Bottom (NewAssign (codes "CC") Shell []))) ∷ on_line 5 (Apply (ChangeValue Every (codes "a.b") (edits.Set (codes "a")))) ∷ tried_on 6 (ChangeValue (One None) (codes "F") (edits.Append (codes "a"))) ∷ on_line 7 (Apply (ChangeValue (One None) (codes "a.b") (edits.Remove (codes "a")))) ∷ [])) ∷  -- alternatives-232
    (codes "unset F\r\nappend \"a.b\" \"\"\r\nbegin\r\n\"try\" assign \"bottom\" \"Y\" = \"$(f {) |\"\r\nadd  \"Y\"  \\\\a\r\ndrop \"Y\" \"|\"\r\nrecipe x.o \" a\"\r\nadd X -O2\r\n", Ok (on_line 1 (Apply (RemoveLines (OfAssign None (codes "F")))) ∷ on_line 2 (Apply (ChangeValue (One None) (codes "a.b") (edits.Append []))) ∷ on_line 3 Begin ∷ tried_on 4 (AddLine Bottom (NewAssign (codes "Y") Recursive (codes "$(f {) |"))) ∷ on_line 5 (Apply (ChangeValue (One None) (codes "Y") (edits.Add (codes "\\\\a")))) ∷ on_line 6 (Apply (ChangeValue (One None) (codes "Y") (edits.Remove (codes "|")))) ∷ on_line 7 (Apply (AddRecipe None (codes "x.o") Last (codes " a"))) ∷ on_line 8 (Apply (ChangeValue (One None) (codes "X") (edits.Add (codes "-O2")))) ∷ [])) ∷  -- alternatives-233
    (codes "\"try\" append F b\r\ntry\tset\toverride\t\"\"\r\nrecipe-replace \"c\" \"rm -rf x\" \"\ttrue\"\r\ntry nth 1 set F 2\r\ntry assign \"bottom\" define = b\r\ndrop  define  b\r\nrecipe c \"e f \\\\ g\"\r\n", Ok (tried_on 1 (ChangeValue (One None) (codes "F") (edits.Append (codes "b"))) ∷ tried_on 2 (ChangeValue (One None) (codes "override") (edits.Set [])) ∷ on_line 3 (Apply (SetRecipe None (codes "c") (ByText (codes "rm -rf x")) (codes "\ttrue"))) ∷ tried_on 4 (ChangeValue (One (Some 1)) (codes "F") (edits.Set (codes "2"))) ∷ tried_on 5 (AddLine Bottom (NewAssign (codes "define") Recursive (codes "b"))) ∷ on_line 6 (Apply (ChangeValue (One None) (codes "define") (edits.Remove (codes "b")))) ∷ on_line 7 (Apply (AddRecipe None (codes "c") Last (codes "e f \\ g"))) ∷ [])) ∷  -- alternatives-234
    (codes " nth  0  add  \"F\"  -g\r\nrule bottom \"%.c a&b\" :: \"b $(q:;=|)\"\r\n\"recipe-insert\" a&b 1 a\r\n\"recipe-del\" \"a&b\" 001\r\n\"try\" recipe-remove %.c \"x \\\\ y\"\r\n\"try\" \"all\" \"add\" F -g\r\ntry\trecipe-insert\t\"a&b\"\t001\t\"true\"\r\n depend  a&b  ${c}\r\ntry \"assign\" bottom t1 :::= \"$(s\\\\) a\"\r\n", Ok (on_line 1 (Apply (ChangeValue (One (Some 0)) (codes "F") (edits.Add (codes "-g")))) ∷ on_line 2 (Apply (AddLine Bottom (NewRule (codes "%.c a&b") Double (codes "b $(q:;=|)")))) ∷ on_line 3 (Apply (AddRecipe None (codes "a&b") (At 1) (codes "a"))) ∷ on_line 4 (Apply (RemoveLines (OfRecipe None (codes "a&b") (ByNumber 1)))) ∷ tried_on 5 (RemoveLines (OfRecipe None (codes "%.c") (ByText (codes "x \\ y")))) ∷ tried_on 6 (ChangeValue Every (codes "F") (edits.Add (codes "-g"))) ∷ tried_on 7 (AddRecipe None (codes "a&b") (At 1) (codes "true")) ∷ on_line 8 (Apply (ChangePrereqs None (codes "a&b") (AddPrereq false (codes "${c}")))) ∷ tried_on 9 (AddLine Bottom (NewAssign (codes "t1") Immediate (codes "$(s\\) a"))) ∷ [])) ∷  -- alternatives-235
    (codes "nth 2 \"unset\" \"F\"\r\n recipe-insert \"$$\" \"2\" true\r\n \r\nor \"all\" \"set\" F \"${c} x$(a  b)\"", Ok (on_line 1 (Apply (RemoveLines (OfAssign (Some 2) (codes "F")))) ∷ Chain (edit_on 2 (AddRecipe None (codes "$$") (At 2) (codes "true"))) (edit_on 4 (ChangeValue Every (codes "F") (edits.Set (codes "${c} x$(a  b)")))) [] ∷ [])) ∷  -- alternatives-236
    (codes "drop F $\\x\n", Ok (on_line 1 (Apply (ChangeValue (One None) (codes "F") (edits.Remove (codes "$\\x")))) ∷ [])) ∷  -- alternatives-237
    (codes "all  \"drop\"  \"+\"  x=1\r\nnth 0 recipe-replace \"d\" \" a\" \"x \\\\ y\"\r\ntry nth 000 drop F -g\r\nnth  4294967295  \"drop\"  a.b  \"\\\\#\"\r\n \r\nor nth 1 unset \"F\"\r\n\"recipe-insert\"\t\"d\"\t2\t\"say \\\"q\\\"\"\r\n", Ok (on_line 1 (Apply (ChangeValue Every (codes "+") (edits.Remove (codes "x=1")))) ∷ on_line 2 (Apply (SetRecipe (Some 0) (codes "d") (ByText (codes " a")) (codes "x \\ y"))) ∷ tried_on 3 (ChangeValue (One (Some 0)) (codes "F") (edits.Remove (codes "-g"))) ∷ Chain (edit_on 4 (ChangeValue (One (Some 4294967295)) (codes "a.b") (edits.Remove (codes "\\#")))) (edit_on 6 (RemoveLines (OfAssign (Some 1) (codes "F")))) [] ∷ on_line 7 (Apply (AddRecipe None (codes "d") (At 2) (codes "say \"q\""))) ∷ [])) ∷  -- alternatives-238
    (codes "nth 1 drop F |\n\n or all set F \"-g $(a b)\"\nnth 0 add F a\\\nundo\nnth 2 \"assign\" before-var \"F\" \"e\" \"=\" \"\"\nall drop \"F\" \"-O2\"\nor nth 1 unset F\n\"or\" \"all\" add e -g\nadd\te\t\"$(a b)\"\ndrop F \"$$\"\n try unset CC\n", Ok (Chain (edit_on 1 (ChangeValue (One (Some 1)) (codes "F") (edits.Remove (codes "|")))) (edit_on 3 (ChangeValue Every (codes "F") (edits.Set (codes "-g $(a b)")))) [] ∷ on_line 4 (Apply (ChangeValue (One (Some 0)) (codes "F") (edits.Add (codes "a\\")))) ∷ on_line 5 Undo ∷ on_line 6 (Apply (AddLine (BeforeVar (Some 2) (codes "F")) (NewAssign (codes "e") Recursive []))) ∷ Chain (edit_on 7 (ChangeValue Every (codes "F") (edits.Remove (codes "-O2")))) (edit_on 8 (RemoveLines (OfAssign (Some 1) (codes "F")))) ((edit_on 9 (ChangeValue Every (codes "e") (edits.Add (codes "-g")))) ∷ []) ∷ on_line 10 (Apply (ChangeValue (One None) (codes "e") (edits.Add (codes "$(a b)")))) ∷ on_line 11 (Apply (ChangeValue (One None) (codes "F") (edits.Remove (codes "$$")))) ∷ tried_on 12 (RemoveLines (OfAssign None (codes "CC"))) ∷ [])) ∷  -- alternatives-239
    (codes "\"all\" append F x=1\nassign \"bottom\" >q \":=\" \"2 3\"\nor recipe \"a&b\" \"y # z\"\nor  nth  002  unset  F\nor nth \"2\" \"add\" F |\nall drop X \"a\0\"\ntry \"recipe-replace\" d \"\ttrue\" \"rm -rf x\"\nnth \"2\" recipe-insert c 1 true\n\nor all add F \"x=1\"\n \n or  nth  2  recipe-replace  c  \"say \\\"q\\\"\"  \"rm -f x\"\nnth 2 add F $\\x\n\"try\" \"all\" \"add\" F -g\nnth\t1\tdrop\tF\t\"-O2\"\ntry all drop F -g\ntry nth 1 \"unset\" \"F\"\n", Ok (on_line 1 (Apply (ChangeValue Every (codes "F") (edits.Append (codes "x=1")))) ∷ Chain (edit_on 2 (AddLine Bottom (NewAssign (codes ">q") Simple (codes "2 3")))) (edit_on 3 (AddRecipe None (codes "a&b") Last (codes "y # z"))) ((edit_on 4 (RemoveLines (OfAssign (Some 2) (codes "F")))) ∷ (edit_on 5 (ChangeValue (One (Some 2)) (codes "F") (edits.Add (codes "|")))) ∷ []) ∷ on_line 6 (Apply (ChangeValue Every (codes "X") (edits.Remove (codes "a\0")))) ∷ tried_on 7 (SetRecipe None (codes "d") (ByText (codes "\ttrue")) (codes "rm -rf x")) ∷ Chain (edit_on 8 (AddRecipe (Some 2) (codes "c") (At 1) (codes "true"))) (edit_on 10 (ChangeValue Every (codes "F") (edits.Add (codes "x=1")))) ((edit_on 12 (SetRecipe (Some 2) (codes "c") (ByText (codes "say \"q\"")) (codes "rm -f x"))) ∷ []) ∷ on_line 13 (Apply (ChangeValue (One (Some 2)) (codes "F") (edits.Add (codes "$\\x")))) ∷ tried_on 14 (ChangeValue Every (codes "F") (edits.Add (codes "-g"))) ∷ on_line 15 (Apply (ChangeValue (One (Some 1)) (codes "F") (edits.Remove (codes "-O2")))) ∷ tried_on 16 (ChangeValue Every (codes "F") (edits.Remove (codes "-g"))) ∷ tried_on 17 (RemoveLines (OfAssign (Some 1) (codes "F"))) ∷ [])) ∷  -- alternatives-240
    (codes "drop a.b \"$(t -g)\"\nnth\t2\tdrop\t\"override\"\tb\n# c\nor \"all\" add a.b x=1\n nth 2 set \"F\" \"x$(a  b)\"\n\nor  rename  \"$(p #)\"  \"a&b\"\nor \"nth\" 2 append F \"$(a b) a\"\nall \"set\" override \"$x $(w a)\"\ntry  all  drop  \"F\"  \"x$(a  b)\"\n", Ok (on_line 1 (Apply (ChangeValue (One None) (codes "a.b") (edits.Remove (codes "$(t -g)")))) ∷ Chain (edit_on 2 (ChangeValue (One (Some 2)) (codes "override") (edits.Remove (codes "b")))) (edit_on 4 (ChangeValue Every (codes "a.b") (edits.Add (codes "x=1")))) [] ∷ Chain (edit_on 5 (ChangeValue (One (Some 2)) (codes "F") (edits.Set (codes "x$(a  b)")))) (edit_on 7 (RenameTarget (codes "$(p #)") (codes "a&b"))) ((edit_on 8 (ChangeValue (One (Some 2)) (codes "F") (edits.Append (codes "$(a b) a")))) ∷ []) ∷ on_line 9 (Apply (ChangeValue Every (codes "override") (edits.Set (codes "$x $(w a)")))) ∷ tried_on 10 (ChangeValue Every (codes "F") (edits.Remove (codes "x$(a  b)"))) ∷ [])) ∷  -- alternatives-241
    (codes "drop F \"a\"\nrecipe-insert c \"1\" true", Ok (on_line 1 (Apply (ChangeValue (One None) (codes "F") (edits.Remove (codes "a")))) ∷ on_line 2 (Apply (AddRecipe None (codes "c") (At 1) (codes "true"))) ∷ [])) ∷  -- alternatives-242
    (codes "all \"set\" F \";\"\nrecipe-remove c true\n \n or drop X -g\nor nth 0 recipe-replace c a a\n", Ok (on_line 1 (Apply (ChangeValue Every (codes "F") (edits.Set (codes ";")))) ∷ Chain (edit_on 2 (RemoveLines (OfRecipe None (codes "c") (ByText (codes "true"))))) (edit_on 4 (ChangeValue (One None) (codes "X") (edits.Remove (codes "-g")))) ((edit_on 5 (SetRecipe (Some 0) (codes "c") (ByText (codes "a")) (codes "a"))) ∷ []) ∷ [])) ∷  -- alternatives-243
    (codes "add \"F\" b\n \nor  add  \"F\"  \"$(a b)\"\n\"drop\" F b\ntry nth 0 drop F |\nbegin\nnth 001 unset F\nassign bottom endef \"+=\" \".PHONY \\\\$x\"\n unset \"endef\"\nassign \"bottom\" override :::= \"$(s\\\\) $(p #)\"", Ok (Chain (edit_on 1 (ChangeValue (One None) (codes "F") (edits.Add (codes "b")))) (edit_on 3 (ChangeValue (One None) (codes "F") (edits.Add (codes "$(a b)")))) [] ∷ on_line 4 (Apply (ChangeValue (One None) (codes "F") (edits.Remove (codes "b")))) ∷ tried_on 5 (ChangeValue (One (Some 0)) (codes "F") (edits.Remove (codes "|"))) ∷ on_line 6 Begin ∷ on_line 7 (Apply (RemoveLines (OfAssign (Some 1) (codes "F")))) ∷ on_line 8 (Apply (AddLine Bottom (NewAssign (codes "endef") Append (codes ".PHONY \\$x")))) ∷ on_line 9 (Apply (RemoveLines (OfAssign None (codes "endef")))) ∷ on_line 10 (Apply (AddLine Bottom (NewAssign (codes "override") Immediate (codes "$(s\\) $(p #)")))) ∷ [])) ∷  -- alternatives-244
    (codes "redo\nnth 4294967295 undepend endefinclude endefinclude\nrecipe-insert endefinclude 1 \" a\"\n# c\nor \"nth\" 2 recipe-remove endefinclude \" a\"\n or drop X -g\nrecipe-remove endefinclude \" a\"\nrecipe-remove endefinclude a\n# c\nor rename a&b \"$(f {)\"\n \"or\" nth 4294967295 \"unset\" X\n \nor all set F a\nundo\nall drop F \"a\\\\ b\"\n# c\nor recipe-remove \"endefinclude\" \" a\"\nredo\n\"recipe-remove\" d \"rm -f x\"\n\n or  recipe-del  \"endefinclude\"  0\n# c\n\"or\" drop a.b \"$ b\"\n# c\nor \"recipe-insert\" endefinclude 1 \"a\"", Ok (on_line 1 Redo ∷ on_line 2 (Apply (ChangePrereqs (Some 4294967295) (codes "endefinclude") (RemovePrereq (codes "endefinclude")))) ∷ Chain (edit_on 3 (AddRecipe None (codes "endefinclude") (At 1) (codes " a"))) (edit_on 5 (RemoveLines (OfRecipe (Some 2) (codes "endefinclude") (ByText (codes " a"))))) ((edit_on 6 (ChangeValue (One None) (codes "X") (edits.Remove (codes "-g")))) ∷ []) ∷ on_line 7 (Apply (RemoveLines (OfRecipe None (codes "endefinclude") (ByText (codes " a"))))) ∷ Chain (edit_on 8 (RemoveLines (OfRecipe None (codes "endefinclude") (ByText (codes "a"))))) (edit_on 10 (RenameTarget (codes "a&b") (codes "$(f {)"))) ((edit_on 11 (RemoveLines (OfAssign (Some 4294967295) (codes "X")))) ∷ (edit_on 13 (ChangeValue Every (codes "F") (edits.Set (codes "a")))) ∷ []) ∷ on_line 14 Undo ∷ Chain (edit_on 15 (ChangeValue Every (codes "F") (edits.Remove (codes "a\\ b")))) (edit_on 17 (RemoveLines (OfRecipe None (codes "endefinclude") (ByText (codes " a"))))) [] ∷ on_line 18 Redo ∷ Chain (edit_on 19 (RemoveLines (OfRecipe None (codes "d") (ByText (codes "rm -f x"))))) (edit_on 21 (RemoveLines (OfRecipe None (codes "endefinclude") (ByNumber 0)))) ((edit_on 23 (ChangeValue (One None) (codes "a.b") (edits.Remove (codes "$ b")))) ∷ (edit_on 25 (AddRecipe None (codes "endefinclude") (At 1) (codes "a"))) ∷ []) ∷ [])) ∷  -- alternatives-245
    (codes "add  a.b  a\\\\\n \nor rename \"c\" -include2\nadd \"a.b\" \"|\"\ntry frob\nunset X\nall append F \"=\"\nundo\ntry nth 1 \"recipe-remove\" c \" a\"\n# or\n", Err 5) ∷  -- alternatives-246
    (codes "\"nth\" 4294967295 \"unset\" a.b\n\"or\" unset F\nadd a.b \"$(w a)\"\nor append F \"$x a:b\"\n\"or\" \"rule\" bottom \"$(s\\\\) c\" : .PHONY\ntry  recipe-insert  $(s\\)  \"1\"  true\ntry recipe-insert $(s\\) 001 true\nnth \"4294967295\" recipe-insert $(s\\) 1 \"a # b\"\n\n\"or\"  all  set  F  \"\"\nor recipe-replace \"c\" b \"\"\n \nor recipe $(s\\) t\nrecipe-insert $(s\\) 001 true\n", Ok (Chain (edit_on 1 (RemoveLines (OfAssign (Some 4294967295) (codes "a.b")))) (edit_on 2 (RemoveLines (OfAssign None (codes "F")))) [] ∷ Chain (edit_on 3 (ChangeValue (One None) (codes "a.b") (edits.Add (codes "$(w a)")))) (edit_on 4 (ChangeValue (One None) (codes "F") (edits.Append (codes "$x a:b")))) ((edit_on 5 (AddLine Bottom (NewRule (codes "$(s\\) c") Single (codes ".PHONY")))) ∷ []) ∷ tried_on 6 (AddRecipe None (codes "$(s\\)") (At 1) (codes "true")) ∷ tried_on 7 (AddRecipe None (codes "$(s\\)") (At 1) (codes "true")) ∷ Chain (edit_on 8 (AddRecipe (Some 4294967295) (codes "$(s\\)") (At 1) (codes "a # b"))) (edit_on 10 (ChangeValue Every (codes "F") (edits.Set []))) ((edit_on 11 (SetRecipe None (codes "c") (ByText (codes "b")) [])) ∷ (edit_on 13 (AddRecipe None (codes "$(s\\)") Last (codes "t"))) ∷ []) ∷ on_line 14 (Apply (AddRecipe None (codes "$(s\\)") (At 1) (codes "true"))) ∷ [])) ∷  -- alternatives-247
    (codes "undo\nnth 1 all set F 1\nnth  4294967295  \"recipe-replace\"  c  \"ifdef Q\"  a\nadd \"F\" x=1\n nth 002 \"drop\" \"F\" x=1\nappend \"F\" ${g(}\ndrop F a\n append F \"\"\ndrop F ${g(}\ndrop .RECIPEPREFIX a\n", Err 2) ∷  -- alternatives-248
    (codes "nth 2 drop X |\r\ntry \"drop\" F b\r\nall append F \"\"\r\n", Ok (on_line 1 (Apply (ChangeValue (One (Some 2)) (codes "X") (edits.Remove (codes "|")))) ∷ tried_on 2 (ChangeValue (One None) (codes "F") (edits.Remove (codes "b"))) ∷ on_line 3 (Apply (ChangeValue Every (codes "F") (edits.Append []))) ∷ [])) ∷  -- alternatives-249
    (codes "\"try\" nth \"4294967295\" \"append\" \"override\" \"\"\r\n nth  001  recipe-replace  c  \">a\"  \"say \\\"q\\\"\"\r\n\"try\" \"nth\" 1 drop F -O2\r\nrecipe-insert \"c\" \"1\" true\r\n\"nth\" 2 recipe-del c 0\r\n\"try\" \"nth\" 1 drop F \"$(t -g)\"\r\nnth 002 add F =\r\n# c\r\nor \"nth\" 1 \"recipe-insert\" c \"1\" a\r\n recipe-insert c 1 true\r\nundo\r\n", Ok (tried_on 1 (ChangeValue (One (Some 4294967295)) (codes "override") (edits.Append [])) ∷ on_line 2 (Apply (SetRecipe (Some 1) (codes "c") (ByText (codes ">a")) (codes "say \"q\""))) ∷ tried_on 3 (ChangeValue (One (Some 1)) (codes "F") (edits.Remove (codes "-O2"))) ∷ on_line 4 (Apply (AddRecipe None (codes "c") (At 1) (codes "true"))) ∷ on_line 5 (Apply (RemoveLines (OfRecipe (Some 2) (codes "c") (ByNumber 0)))) ∷ tried_on 6 (ChangeValue (One (Some 1)) (codes "F") (edits.Remove (codes "$(t -g)"))) ∷ Chain (edit_on 7 (ChangeValue (One (Some 2)) (codes "F") (edits.Add (codes "=")))) (edit_on 9 (AddRecipe (Some 1) (codes "c") (At 1) (codes "a"))) [] ∷ on_line 10 (Apply (AddRecipe None (codes "c") (At 1) (codes "true"))) ∷ on_line 11 Undo ∷ [])) ∷  -- alternatives-250
    (codes "\"drop\" \"override\" \"a$ b\"\ntry append F \"$(A -g) \\\\\\\\a\"\nnth \"0\" recipe-replace c b \"say \\\"q\\\"\"\ntry  recipe-replace  c  \" a\"  \" a\"\nrecipe-remove c >a\nredo\nall drop override \"$(w a)\"\n# c\n\"or\"\trecipe-replace\t\"c\"\t\"ifdef Q\"\t\"# n\"\nrecipe-replace c b \"rm -f x\"\nrecipe-insert c 0 \"rm -f x\"\n\"or\"\tnth\t4294967295\tdrop\tF\t\"$(w a)\"\n# c\nor unset F\n\nor  append  F  a\\\\\nbegin", Ok (on_line 1 (Apply (ChangeValue (One None) (codes "override") (edits.Remove (codes "a$ b")))) ∷ tried_on 2 (ChangeValue (One None) (codes "F") (edits.Append (codes "$(A -g) \\\\a"))) ∷ on_line 3 (Apply (SetRecipe (Some 0) (codes "c") (ByText (codes "b")) (codes "say \"q\""))) ∷ tried_on 4 (SetRecipe None (codes "c") (ByText (codes " a")) (codes " a")) ∷ on_line 5 (Apply (RemoveLines (OfRecipe None (codes "c") (ByText (codes ">a"))))) ∷ on_line 6 Redo ∷ Chain (edit_on 7 (ChangeValue Every (codes "override") (edits.Remove (codes "$(w a)")))) (edit_on 9 (SetRecipe None (codes "c") (ByText (codes "ifdef Q")) (codes "# n"))) [] ∷ on_line 10 (Apply (SetRecipe None (codes "c") (ByText (codes "b")) (codes "rm -f x"))) ∷ Chain (edit_on 11 (AddRecipe None (codes "c") (At 0) (codes "rm -f x"))) (edit_on 12 (ChangeValue (One (Some 4294967295)) (codes "F") (edits.Remove (codes "$(w a)")))) ((edit_on 14 (RemoveLines (OfAssign None (codes "F")))) ∷ (edit_on 16 (ChangeValue (One None) (codes "F") (edits.Append (codes "a\\\\")))) ∷ []) ∷ on_line 17 Begin ∷ [])) ∷  -- alternatives-251
    (codes "recipe-replace d \"rm -f x\" a\0\r\nrecipe-insert d 1 \"t\"\r\nend\r\n\"unrule\" \"d\"\r\n \"nth\" 1 \"add\" $(X) \"a\"\r\nappend F \"a:b a\\\\ b\"\r\nor recipe-replace c true \"x \\\\ y\"\r\nrecipe-replace \"c\" true true\r\n\"try\" \"all\" \"add\" F -g\r\nrecipe-replace \"c\" \"x \\\\ y\" \"a # b\"\r\n \r\nor recipe-remove \"d\" a\r\n or append a.b \"\"\r\nset F -g\r\n", Ok (on_line 1 (Apply (SetRecipe None (codes "d") (ByText (codes "rm -f x")) (codes "a\0"))) ∷ on_line 2 (Apply (AddRecipe None (codes "d") (At 1) (codes "t"))) ∷ on_line 3 End ∷ on_line 4 (Apply (RemoveLines (OfRule None (codes "d")))) ∷ on_line 5 (Apply (ChangeValue (One (Some 1)) (codes "$(X)") (edits.Add (codes "a")))) ∷ Chain (edit_on 6 (ChangeValue (One None) (codes "F") (edits.Append (codes "a:b a\\ b")))) (edit_on 7 (SetRecipe None (codes "c") (ByText (codes "true")) (codes "x \\ y"))) [] ∷ on_line 8 (Apply (SetRecipe None (codes "c") (ByText (codes "true")) (codes "true"))) ∷ tried_on 9 (ChangeValue Every (codes "F") (edits.Add (codes "-g"))) ∷ Chain (edit_on 10 (SetRecipe None (codes "c") (ByText (codes "x \\ y")) (codes "a # b"))) (edit_on 12 (RemoveLines (OfRecipe None (codes "d") (ByText (codes "a"))))) ((edit_on 13 (ChangeValue (One None) (codes "a.b") (edits.Append []))) ∷ []) ∷ on_line 14 (Apply (ChangeValue (One None) (codes "F") (edits.Set (codes "-g")))) ∷ [])) ∷  -- alternatives-252
    (codes "recipe-replace  \"foo\"  b  \"ifdef Q\"\n or nth \"0\" drop F -g\nor nth 4294967295 set override \"x$(a  b)\"\n\"or\"  \"drop\"  F  -g\nunset X\ntry \"add\" F -g\nredo", Ok (Chain (edit_on 1 (SetRecipe None (codes "foo") (ByText (codes "b")) (codes "ifdef Q"))) (edit_on 2 (ChangeValue (One (Some 0)) (codes "F") (edits.Remove (codes "-g")))) ((edit_on 3 (ChangeValue (One (Some 4294967295)) (codes "override") (edits.Set (codes "x$(a  b)")))) ∷ (edit_on 4 (ChangeValue (One None) (codes "F") (edits.Remove (codes "-g")))) ∷ []) ∷ on_line 5 (Apply (RemoveLines (OfAssign None (codes "X")))) ∷ tried_on 6 (ChangeValue (One None) (codes "F") (edits.Add (codes "-g"))) ∷ on_line 7 Redo ∷ [])) ∷  -- alternatives-253
    (codes "nth 002 undepend $$ d\nor \"drop\" F \"-g\"\nundo\n", Ok (Chain (edit_on 1 (ChangePrereqs (Some 2) (codes "$$") (RemovePrereq (codes "d")))) (edit_on 2 (ChangeValue (One None) (codes "F") (edits.Remove (codes "-g")))) [] ∷ on_line 3 Undo ∷ [])) ∷  -- alternatives-254
    (codes "all\tdrop\t\"F\"\tx=1\n", Ok (on_line 1 (Apply (ChangeValue Every (codes "F") (edits.Remove (codes "x=1")))) ∷ [])) ∷  -- alternatives-255
    (codes "\"drop\" override \"$(A -g)\"", Ok (on_line 1 (Apply (ChangeValue (One None) (codes "override") (edits.Remove (codes "$(A -g)")))) ∷ [])) ∷  -- alternatives-256
    (codes "all  set  X  \"a $x\"\nrecipe-remove  d  b\ntry recipe-insert d \"1\" \"say \\\"q\\\"\"\nend\nnth 0 depend-order \"d\" a&b\nor nth 2 recipe-replace d \\ a\n\"rule\" bottom a : \"\"\n all \"drop\" F \"$(s (b) a)\"\ntry\tdepend-order\t\"-include2\"\t$(q:;=|)\n", Ok (on_line 1 (Apply (ChangeValue Every (codes "X") (edits.Set (codes "a $x")))) ∷ on_line 2 (Apply (RemoveLines (OfRecipe None (codes "d") (ByText (codes "b"))))) ∷ tried_on 3 (AddRecipe None (codes "d") (At 1) (codes "say \"q\"")) ∷ on_line 4 End ∷ Chain (edit_on 5 (ChangePrereqs (Some 0) (codes "d") (AddPrereq true (codes "a&b")))) (edit_on 6 (SetRecipe (Some 2) (codes "d") (ByText (codes "\\")) (codes "a"))) [] ∷ on_line 7 (Apply (AddLine Bottom (NewRule (codes "a") Single []))) ∷ on_line 8 (Apply (ChangeValue Every (codes "F") (edits.Remove (codes "$(s (b) a)")))) ∷ tried_on 9 (ChangePrereqs None (codes "-include2") (AddPrereq true (codes "$(q:;=|)"))) ∷ [])) ∷  -- alternatives-257
    (codes "nth 1 \"set\" a.b \"\"\r\nrecipe-insert \"c\" 2 true\r\nappend X \"-O2 $x\"\r\ndrop \"a.b\" $x\r\n# c\r\nor \"unset\" \"X\"\r\n# c\r\nor recipe-replace c \"x \\\\ y\" \"a # b\"\r\nor \"nth\" 0 append F \"a -O2\"\r\ncancel\r\nnth 4294967295 drop a.b $x\r\n# c\r\nor nth 0 \"recipe\" \"c\" t\r\n\"or\" nth 0 \"recipe-insert\" \"c\" 1 true\r\nredo\r\n", Ok (on_line 1 (Apply (ChangeValue (One (Some 1)) (codes "a.b") (edits.Set []))) ∷ on_line 2 (Apply (AddRecipe None (codes "c") (At 2) (codes "true"))) ∷ on_line 3 (Apply (ChangeValue (One None) (codes "X") (edits.Append (codes "-O2 $x")))) ∷ Chain (edit_on 4 (ChangeValue (One None) (codes "a.b") (edits.Remove (codes "$x")))) (edit_on 6 (RemoveLines (OfAssign None (codes "X")))) ((edit_on 8 (SetRecipe None (codes "c") (ByText (codes "x \\ y")) (codes "a # b"))) ∷ (edit_on 9 (ChangeValue (One (Some 0)) (codes "F") (edits.Append (codes "a -O2")))) ∷ []) ∷ on_line 10 Cancel ∷ Chain (edit_on 11 (ChangeValue (One (Some 4294967295)) (codes "a.b") (edits.Remove (codes "$x")))) (edit_on 13 (AddRecipe (Some 0) (codes "c") Last (codes "t"))) ((edit_on 14 (AddRecipe (Some 0) (codes "c") (At 1) (codes "true"))) ∷ []) ∷ on_line 15 Redo ∷ [])) ∷  -- alternatives-258
    (codes "drop F \"-O2\"\r\ntry nth 4294967295 add \"F\" a\r\nall append \"X\" \"-O2 -O2\"\r\nbegin\r\ndrop\tX$:\t\"a$ \"\r\nall \"append\" a.b \"| x=1\"\r\n\"try\" all append \"F\" -O2\r\n", Ok (on_line 1 (Apply (ChangeValue (One None) (codes "F") (edits.Remove (codes "-O2")))) ∷ tried_on 2 (ChangeValue (One (Some 4294967295)) (codes "F") (edits.Add (codes "a"))) ∷ on_line 3 (Apply (ChangeValue Every (codes "X") (edits.Append (codes "-O2 -O2")))) ∷ on_line 4 Begin ∷ on_line 5 (Apply (ChangeValue (One None) (codes "X$:") (edits.Remove (codes "a$ ")))) ∷ on_line 6 (Apply (ChangeValue Every (codes "a.b") (edits.Append (codes "| x=1")))) ∷ tried_on 7 (ChangeValue Every (codes "F") (edits.Append (codes "-O2"))) ∷ [])) ∷  -- alternatives-259
    (codes "nth \"0\" \"unset\" F\n\"or\" \"recipe-remove\" c \"\ttrue\"\n unset F\n \nor add a.b |\nor  \"nth\"  \"0\"  drop  a.b  \"|\"\nor \"recipe-insert\" c 1 \"\"\ndrop a.b |\ntry all drop F -g\nappend override ${c}\n\"nth\"  1  \"recipe-remove\"  c  true\n\"append\" X \"a:b\"\nor nth 4294967295 recipe-remove c \"true\"\n# c\nor\tnth\t0\trecipe-insert\tc\t\"1\"\t\" a\"\nor unset a.b", Ok (Chain (edit_on 1 (RemoveLines (OfAssign (Some 0) (codes "F")))) (edit_on 2 (RemoveLines (OfRecipe None (codes "c") (ByText (codes "\ttrue"))))) [] ∷ Chain (edit_on 3 (RemoveLines (OfAssign None (codes "F")))) (edit_on 5 (ChangeValue (One None) (codes "a.b") (edits.Add (codes "|")))) ((edit_on 6 (ChangeValue (One (Some 0)) (codes "a.b") (edits.Remove (codes "|")))) ∷ (edit_on 7 (AddRecipe None (codes "c") (At 1) [])) ∷ []) ∷ on_line 8 (Apply (ChangeValue (One None) (codes "a.b") (edits.Remove (codes "|")))) ∷ tried_on 9 (ChangeValue Every (codes "F") (edits.Remove (codes "-g"))) ∷ on_line 10 (Apply (ChangeValue (One None) (codes "override") (edits.Append (codes "${c}")))) ∷ on_line 11 (Apply (RemoveLines (OfRecipe (Some 1) (codes "c") (ByText (codes "true"))))) ∷ Chain (edit_on 12 (ChangeValue (One None) (codes "X") (edits.Append (codes "a:b")))) (edit_on 13 (RemoveLines (OfRecipe (Some 4294967295) (codes "c") (ByText (codes "true"))))) ((edit_on 15 (AddRecipe (Some 0) (codes "c") (At 1) (codes " a"))) ∷ (edit_on 16 (RemoveLines (OfAssign None (codes "a.b")))) ∷ []) ∷ [])) ∷  -- alternatives-260
    (codes "\"try\" unset X\nset F \"\"\nor set X a\nall drop override -O2\n\"try\" nth \"2\" \"add\" \"override\" \"a$ b\"\nadd F $", Ok (tried_on 1 (RemoveLines (OfAssign None (codes "X"))) ∷ Chain (edit_on 2 (ChangeValue (One None) (codes "F") (edits.Set []))) (edit_on 3 (ChangeValue (One None) (codes "X") (edits.Set (codes "a")))) [] ∷ on_line 4 (Apply (ChangeValue Every (codes "override") (edits.Remove (codes "-O2")))) ∷ tried_on 5 (ChangeValue (One (Some 2)) (codes "override") (edits.Add (codes "a$ b"))) ∷ on_line 6 (Apply (ChangeValue (One None) (codes "F") (edits.Add (codes "$")))) ∷ [])) ∷  -- alternatives-261
    (codes "\"nth\" 3 \"add\" \"F\" b\nor nth 4294967295 recipe-insert \"c\" 001 true\n \nor recipe-insert c 1 \"a # b\"\n\"all\"\tdrop\tF\ta\n nth 2 drop F x=1\n \nor nth 1 add F b\nnth  3  add  F  \"$x\"\ntry \"nth\" 4294967295 set F \"\"\nnth\t002\trecipe-insert\tc\t001\ta\n\nor nth 3 drop F b\n \"nth\" 2 \"set\" \"F\" \"\\\\\\\\a\"\nrecipe-insert c 1 \"say \\\"q\\\"\"\n", Ok (Chain (edit_on 1 (ChangeValue (One (Some 3)) (codes "F") (edits.Add (codes "b")))) (edit_on 2 (AddRecipe (Some 4294967295) (codes "c") (At 1) (codes "true"))) ((edit_on 4 (AddRecipe None (codes "c") (At 1) (codes "a # b"))) ∷ []) ∷ on_line 5 (Apply (ChangeValue Every (codes "F") (edits.Remove (codes "a")))) ∷ Chain (edit_on 6 (ChangeValue (One (Some 2)) (codes "F") (edits.Remove (codes "x=1")))) (edit_on 8 (ChangeValue (One (Some 1)) (codes "F") (edits.Add (codes "b")))) [] ∷ on_line 9 (Apply (ChangeValue (One (Some 3)) (codes "F") (edits.Add (codes "$x")))) ∷ tried_on 10 (ChangeValue (One (Some 4294967295)) (codes "F") (edits.Set [])) ∷ Chain (edit_on 11 (AddRecipe (Some 2) (codes "c") (At 1) (codes "a"))) (edit_on 13 (ChangeValue (One (Some 3)) (codes "F") (edits.Remove (codes "b")))) [] ∷ on_line 14 (Apply (ChangeValue (One (Some 2)) (codes "F") (edits.Set (codes "\\\\a")))) ∷ on_line 15 (Apply (AddRecipe None (codes "c") (At 1) (codes "say \"q\""))) ∷ [])) ∷  -- alternatives-262
    (codes " all drop F \"-g\"\nnth 1 set \"override\" -g\n \nor recipe-insert c \"1\" true\n or \"nth\" 2 unset F\n or nth 1 unset F\nnth 1 drop F \"a\\\\ \"\n# c\nor  \"nth\"  1  add  F  b\n\"nth\"  2  drop  F  \"$(t -g)\"\n \nor all \"set\" F \"$(s (b) a) a\"\nall append F \"$(t -g) -g\"\nundo\nbegin\nend\n", Ok (on_line 1 (Apply (ChangeValue Every (codes "F") (edits.Remove (codes "-g")))) ∷ Chain (edit_on 2 (ChangeValue (One (Some 1)) (codes "override") (edits.Set (codes "-g")))) (edit_on 4 (AddRecipe None (codes "c") (At 1) (codes "true"))) ((edit_on 5 (RemoveLines (OfAssign (Some 2) (codes "F")))) ∷ (edit_on 6 (RemoveLines (OfAssign (Some 1) (codes "F")))) ∷ []) ∷ Chain (edit_on 7 (ChangeValue (One (Some 1)) (codes "F") (edits.Remove (codes "a\\ ")))) (edit_on 9 (ChangeValue (One (Some 1)) (codes "F") (edits.Add (codes "b")))) [] ∷ Chain (edit_on 10 (ChangeValue (One (Some 2)) (codes "F") (edits.Remove (codes "$(t -g)")))) (edit_on 12 (ChangeValue Every (codes "F") (edits.Set (codes "$(s (b) a) a")))) [] ∷ on_line 13 (Apply (ChangeValue Every (codes "F") (edits.Append (codes "$(t -g) -g")))) ∷ on_line 14 Undo ∷ on_line 15 Begin ∷ on_line 16 End ∷ [])) ∷  -- alternatives-263
    (codes "add F -g\ntry nth 4294967295 add X b\n all drop F \"a\"\n recipe-remove c \"\"\n# c\n\"or\" \"set\" F \"$# |\"\nunset F\n\"nth\" 1 drop X ${c}\ntry\tassign\tbefore-rule\td\tA\t\":::=\"\t\\$x\ntry add A -O2\n", Ok (on_line 1 (Apply (ChangeValue (One None) (codes "F") (edits.Add (codes "-g")))) ∷ tried_on 2 (ChangeValue (One (Some 4294967295)) (codes "X") (edits.Add (codes "b"))) ∷ on_line 3 (Apply (ChangeValue Every (codes "F") (edits.Remove (codes "a")))) ∷ Chain (edit_on 4 (RemoveLines (OfRecipe None (codes "c") (ByText [])))) (edit_on 6 (ChangeValue (One None) (codes "F") (edits.Set (codes "$# |")))) [] ∷ on_line 7 (Apply (RemoveLines (OfAssign None (codes "F")))) ∷ on_line 8 (Apply (ChangeValue (One (Some 1)) (codes "X") (edits.Remove (codes "${c}")))) ∷ tried_on 9 (AddLine (BeforeRule None (codes "d")) (NewAssign (codes "A") Immediate (codes "\\$x"))) ∷ tried_on 10 (ChangeValue (One None) (codes "A") (edits.Add (codes "-O2"))) ∷ [])) ∷  -- alternatives-264
    (codes "\"add\" F \\\\a\r\nadd \"F\" \"$(t -g)\"\r\n\"or\" all \"add\" F \\\\a\r\ndrop  F  \\\\\r\n", Ok (on_line 1 (Apply (ChangeValue (One None) (codes "F") (edits.Add (codes "\\\\a")))) ∷ Chain (edit_on 2 (ChangeValue (One None) (codes "F") (edits.Add (codes "$(t -g)")))) (edit_on 3 (ChangeValue Every (codes "F") (edits.Add (codes "\\\\a")))) [] ∷ on_line 4 (Apply (ChangeValue (One None) (codes "F") (edits.Remove (codes "\\\\")))) ∷ [])) ∷  -- alternatives-265
    (codes "try drop \\#x \"b\"\nend\ntry nth 2 recipe-insert c 1 \"a\"\n try drop \"X\" \"a$ \"\n\"append\" F \"a:b $(t -g)\"\nnth \"1\" add X \"-O2\"\ntry  all  add  X  b\n", Ok (tried_on 1 (ChangeValue (One None) (codes "\\#x") (edits.Remove (codes "b"))) ∷ on_line 2 End ∷ tried_on 3 (AddRecipe (Some 2) (codes "c") (At 1) (codes "a")) ∷ tried_on 4 (ChangeValue (One None) (codes "X") (edits.Remove (codes "a$ "))) ∷ on_line 5 (Apply (ChangeValue (One None) (codes "F") (edits.Append (codes "a:b $(t -g)")))) ∷ on_line 6 (Apply (ChangeValue (One (Some 1)) (codes "X") (edits.Add (codes "-O2")))) ∷ tried_on 7 (ChangeValue Every (codes "X") (edits.Add (codes "b"))) ∷ [])) ∷  -- alternatives-266
    (codes "nth \"2\" recipe-insert \"$(s\\\\)\" \"1\" true\n\"recipe-remove\"  c  \"ifdef Q\"\nor recipe-remove $(s\\) b\nor recipe-insert c 1 \"say \\\"q\\\"\"\nor recipe-insert c \"1\" \"a # b\"\nrecipe-remove \"c\" \"ifdef Q\"\n\"nth\" 1 \"recipe-insert\" $(s\\) 1 b\ntry all drop F -g\nrecipe-remove d true\nappend\t\"X\"\t\"a$ b\"\nappend F \"\"\n", Ok (on_line 1 (Apply (AddRecipe (Some 2) (codes "$(s\\)") (At 1) (codes "true"))) ∷ Chain (edit_on 2 (RemoveLines (OfRecipe None (codes "c") (ByText (codes "ifdef Q"))))) (edit_on 3 (RemoveLines (OfRecipe None (codes "$(s\\)") (ByText (codes "b"))))) ((edit_on 4 (AddRecipe None (codes "c") (At 1) (codes "say \"q\""))) ∷ (edit_on 5 (AddRecipe None (codes "c") (At 1) (codes "a # b"))) ∷ []) ∷ on_line 6 (Apply (RemoveLines (OfRecipe None (codes "c") (ByText (codes "ifdef Q"))))) ∷ on_line 7 (Apply (AddRecipe (Some 1) (codes "$(s\\)") (At 1) (codes "b"))) ∷ tried_on 8 (ChangeValue Every (codes "F") (edits.Remove (codes "-g"))) ∷ on_line 9 (Apply (RemoveLines (OfRecipe None (codes "d") (ByText (codes "true"))))) ∷ on_line 10 (Apply (ChangeValue (One None) (codes "X") (edits.Append (codes "a$ b")))) ∷ on_line 11 (Apply (ChangeValue (One None) (codes "F") (edits.Append []))) ∷ [])) ∷  -- alternatives-267
    (codes "try nth 1 set override \"a\\\\ b\"\nadd \"override\" \"a$ b\"\n\nor unset F\nor add override \"a\\\\ b\"\n# c\n\"or\" add \"override\" a\n\"all\" drop F \"-g\"\n\n drop override \"a\\\\ b\"\ndrop override \"a$ b\"\n", Ok (tried_on 1 (ChangeValue (One (Some 1)) (codes "override") (edits.Set (codes "a\\ b"))) ∷ Chain (edit_on 2 (ChangeValue (One None) (codes "override") (edits.Add (codes "a$ b")))) (edit_on 4 (RemoveLines (OfAssign None (codes "F")))) ((edit_on 5 (ChangeValue (One None) (codes "override") (edits.Add (codes "a\\ b")))) ∷ (edit_on 7 (ChangeValue (One None) (codes "override") (edits.Add (codes "a")))) ∷ []) ∷ on_line 8 (Apply (ChangeValue Every (codes "F") (edits.Remove (codes "-g")))) ∷ on_line 10 (Apply (ChangeValue (One None) (codes "override") (edits.Remove (codes "a\\ b")))) ∷ on_line 11 (Apply (ChangeValue (One None) (codes "override") (edits.Remove (codes "a$ b")))) ∷ [])) ∷  -- alternatives-268
    (codes "all\tset\t\"F\"\t\"a$ b |\"\nunset \"a.b\"\n \"nth\" 1 drop F \"a$ b\"\ndrop F |\nunset F\nor set F 1\n\"try\" nth 1 unset a.b\nundo\nundo\n", Ok (on_line 1 (Apply (ChangeValue Every (codes "F") (edits.Set (codes "a$ b |")))) ∷ on_line 2 (Apply (RemoveLines (OfAssign None (codes "a.b")))) ∷ on_line 3 (Apply (ChangeValue (One (Some 1)) (codes "F") (edits.Remove (codes "a$ b")))) ∷ on_line 4 (Apply (ChangeValue (One None) (codes "F") (edits.Remove (codes "|")))) ∷ Chain (edit_on 5 (RemoveLines (OfAssign None (codes "F")))) (edit_on 6 (ChangeValue (One None) (codes "F") (edits.Set (codes "1")))) [] ∷ tried_on 7 (RemoveLines (OfAssign (Some 1) (codes "a.b"))) ∷ on_line 8 Undo ∷ on_line 9 Undo ∷ [])) ∷  -- alternatives-269
    (codes "nth 1 unset X\n\"or\" nth 0 drop F -g\n\"recipe-remove\" c \"a # b\"\ndrop F -g\nundo\n undepend c a\n \"add\" F \"a\\\\ b\"\n append\ta.b\t\"= a:b\"\n \nor set X \"x$(a  b) ;\"", Ok (Chain (edit_on 1 (RemoveLines (OfAssign (Some 1) (codes "X")))) (edit_on 2 (ChangeValue (One (Some 0)) (codes "F") (edits.Remove (codes "-g")))) [] ∷ on_line 3 (Apply (RemoveLines (OfRecipe None (codes "c") (ByText (codes "a # b"))))) ∷ on_line 4 (Apply (ChangeValue (One None) (codes "F") (edits.Remove (codes "-g")))) ∷ on_line 5 Undo ∷ on_line 6 (Apply (ChangePrereqs None (codes "c") (RemovePrereq (codes "a")))) ∷ on_line 7 (Apply (ChangeValue (One None) (codes "F") (edits.Add (codes "a\\ b")))) ∷ Chain (edit_on 8 (ChangeValue (One None) (codes "a.b") (edits.Append (codes "= a:b")))) (edit_on 10 (ChangeValue (One None) (codes "X") (edits.Set (codes "x$(a  b) ;")))) [] ∷ [])) ∷  -- alternatives-270
    (codes "try all add \"F\" a\r\nnth 2 add F \"$ b\"\r\nall rename c d\r\n \"nth\"  000  add  X  \\#\r\nor nth 0 add X a:b\r\nadd X \"a$ a\"\r\n# c\r\n\"or\" nth \"1\" add F \"a$ b\"\r\n\"all\" add F \"$ b\"\r\nend\r\nnth  001  rule  \"after-var\"  F  .PHONY  :  %.o\r\n\"all\" drop F \"x=1\"\r\nappend \"CC\" \"|\"\r\n", Err 3) ∷  -- alternatives-271
    (codes "try \"drop\" F $#\r\nassign bottom e \":::=\" \"\"\r\nadd F -g\r\n\"try\" drop F -g\r\nall add e \"-O2\"\r\ntry nth 000 set F 1\r\ndrop\tF\t=\r\nor \"set\" F \"%.o t\"\r\n\"add\"\t\"F\"\ta\r\n\"set\" F \"\"\r\ndrop\te\t\"-O2\"", Ok (tried_on 1 (ChangeValue (One None) (codes "F") (edits.Remove (codes "$#"))) ∷ on_line 2 (Apply (AddLine Bottom (NewAssign (codes "e") Immediate []))) ∷ on_line 3 (Apply (ChangeValue (One None) (codes "F") (edits.Add (codes "-g")))) ∷ tried_on 4 (ChangeValue (One None) (codes "F") (edits.Remove (codes "-g"))) ∷ on_line 5 (Apply (ChangeValue Every (codes "e") (edits.Add (codes "-O2")))) ∷ tried_on 6 (ChangeValue (One (Some 0)) (codes "F") (edits.Set (codes "1"))) ∷ Chain (edit_on 7 (ChangeValue (One None) (codes "F") (edits.Remove (codes "=")))) (edit_on 8 (ChangeValue (One None) (codes "F") (edits.Set (codes "%.o t")))) [] ∷ on_line 9 (Apply (ChangeValue (One None) (codes "F") (edits.Add (codes "a")))) ∷ on_line 10 (Apply (ChangeValue (One None) (codes "F") (edits.Set []))) ∷ on_line 11 (Apply (ChangeValue (One None) (codes "e") (edits.Remove (codes "-O2")))) ∷ [])) ∷  -- alternatives-272
    (codes "all append \"F\" \"$\\\\x $\\\\x\"\r\n", Ok (on_line 1 (Apply (ChangeValue Every (codes "F") (edits.Append (codes "$\\x $\\x")))) ∷ [])) ∷  -- alternatives-273
    (codes "nth \"1\" recipe-replace c \"# n\" \"t\"\nrecipe-replace c \"ifdef Q\" \"rm -f x\"\n \nor append F =\n\"recipe-remove\" c \"\"\ndrop F -g", Ok (on_line 1 (Apply (SetRecipe (Some 1) (codes "c") (ByText (codes "# n")) (codes "t"))) ∷ Chain (edit_on 2 (SetRecipe None (codes "c") (ByText (codes "ifdef Q")) (codes "rm -f x"))) (edit_on 4 (ChangeValue (One None) (codes "F") (edits.Append (codes "=")))) [] ∷ on_line 5 (Apply (RemoveLines (OfRecipe None (codes "c") (ByText [])))) ∷ on_line 6 (Apply (ChangeValue (One None) (codes "F") (edits.Remove (codes "-g")))) ∷ [])) ∷  -- alternatives-274
    (codes "\"all\" drop F -g\nrecipe-insert c \"4294967295\" \"a # b\"\n# c\nor nth 1 \"recipe-insert\" c 1 true\n# c\nor assign bottom override \"+=\" $$\nbegin\nall\tadd\t\"F\"\tb\n\"recipe-remove\"  c  \"t\"", Ok (on_line 1 (Apply (ChangeValue Every (codes "F") (edits.Remove (codes "-g")))) ∷ Chain (edit_on 2 (AddRecipe None (codes "c") (At 4294967295) (codes "a # b"))) (edit_on 4 (AddRecipe (Some 1) (codes "c") (At 1) (codes "true"))) ((edit_on 6 (AddLine Bottom (NewAssign (codes "override") Append (codes "$$")))) ∷ []) ∷ on_line 7 Begin ∷ on_line 8 (Apply (ChangeValue Every (codes "F") (edits.Add (codes "b")))) ∷ on_line 9 (Apply (RemoveLines (OfRecipe None (codes "c") (ByText (codes "t"))))) ∷ [])) ∷  -- alternatives-275
    (codes "nth  0  unset  X\ntry \"nth\" \"4294967295\" \"drop\" override \"$(t -g)\"\ntry nth 2 recipe-remove c \"\"\n\"try\" \"all\" \"add\" F -g\n\"recipe-replace\" c \"\" \"a # b\"\nundo\n\"nth\"\t4294967295\tunset\tF\nadd override \"$(t -g)\"", Ok (on_line 1 (Apply (RemoveLines (OfAssign (Some 0) (codes "X")))) ∷ tried_on 2 (ChangeValue (One (Some 4294967295)) (codes "override") (edits.Remove (codes "$(t -g)"))) ∷ tried_on 3 (RemoveLines (OfRecipe (Some 2) (codes "c") (ByText []))) ∷ tried_on 4 (ChangeValue Every (codes "F") (edits.Add (codes "-g"))) ∷ on_line 5 (Apply (SetRecipe None (codes "c") (ByText []) (codes "a # b"))) ∷ on_line 6 Undo ∷ on_line 7 (Apply (RemoveLines (OfAssign (Some 4294967295) (codes "F")))) ∷ on_line 8 (Apply (ChangeValue (One None) (codes "override") (edits.Add (codes "$(t -g)")))) ∷ [])) ∷  -- alternatives-276
    (codes "\"all\" drop F \"-g\"\nbegin\nnth\t1\trecipe-remove\t\"c\"\t\"t\"\ntry\trecipe-insert\td\t2\ttrue\n", Ok (on_line 1 (Apply (ChangeValue Every (codes "F") (edits.Remove (codes "-g")))) ∷ on_line 2 Begin ∷ on_line 3 (Apply (RemoveLines (OfRecipe (Some 1) (codes "c") (ByText (codes "t"))))) ∷ tried_on 4 (AddRecipe None (codes "d") (At 2) (codes "true")) ∷ [])) ∷  -- alternatives-277
    (codes "unset F\n# c\nor nth 002 recipe-insert c 1 \" a\"\n drop  \"X\"  -g\n \n\"or\" \"nth\" 4294967295 add \"override\" b\n# c\n \"or\" all add \"F\" \"$(t -g)\"\nnth 1 recipe-insert \"c\" 1 t\nnth 2 recipe-remove c \" a\"\n# or\nundo\n", Ok (Chain (edit_on 1 (RemoveLines (OfAssign None (codes "F")))) (edit_on 3 (AddRecipe (Some 2) (codes "c") (At 1) (codes " a"))) [] ∷ Chain (edit_on 4 (ChangeValue (One None) (codes "X") (edits.Remove (codes "-g")))) (edit_on 6 (ChangeValue (One (Some 4294967295)) (codes "override") (edits.Add (codes "b")))) ((edit_on 8 (ChangeValue Every (codes "F") (edits.Add (codes "$(t -g)")))) ∷ []) ∷ on_line 9 (Apply (AddRecipe (Some 1) (codes "c") (At 1) (codes "t"))) ∷ on_line 10 (Apply (RemoveLines (OfRecipe (Some 2) (codes "c") (ByText (codes " a"))))) ∷ on_line 12 Undo ∷ [])) ∷  -- alternatives-278
    []

answers_6 : map (λ row. read_script row.0) rows_6 ≡ map (λ row. row.1) rows_6
unfolding line_len lines_from
answers_6 = refl

abbrev rows_7 : List (List ℕ × Result (List Step) ℕ)
rows_7 =
    (codes "drop\tF\ta\nrecipe-insert c 001 true\nor all \"set\" \"X\" a\ndrop a.b a\n \"or\" recipe %.o cÿ\nset  F  |\n try add F b\nbegin\nset a.b \"\"\nadd a.b ;\ncancel\n", Ok (on_line 1 (Apply (ChangeValue (One None) (codes "F") (edits.Remove (codes "a")))) ∷ Chain (edit_on 2 (AddRecipe None (codes "c") (At 1) (codes "true"))) (edit_on 3 (ChangeValue Every (codes "X") (edits.Set (codes "a")))) [] ∷ Chain (edit_on 4 (ChangeValue (One None) (codes "a.b") (edits.Remove (codes "a")))) (edit_on 5 (AddRecipe None (codes "%.o") Last (codes "cÿ"))) [] ∷ on_line 6 (Apply (ChangeValue (One None) (codes "F") (edits.Set (codes "|")))) ∷ tried_on 7 (ChangeValue (One None) (codes "F") (edits.Add (codes "b"))) ∷ on_line 8 Begin ∷ on_line 9 (Apply (ChangeValue (One None) (codes "a.b") (edits.Set []))) ∷ on_line 10 (Apply (ChangeValue (One None) (codes "a.b") (edits.Add (codes ";")))) ∷ on_line 11 Cancel ∷ [])) ∷  -- alternatives-279
    (codes "try  \"nth\"  2  \"add\"  F  \\\\a\nnth 4294967295 drop \"F\" a:b\nall \"drop\" \"F\" \"-g\"\nor drop \"F\" b\n \nor \"rename\" x.o $$\nnth 1 recipe \"d\" \"\"\n\"add\" F a:b\nrecipe-replace d \"\" \"\"\nnth  0  \"drop\"  F  a:b\nor recipe-replace d \"\" t\n\"try\" \"all\" \"add\" F -g\nredo\ndepend-order  \"$(s\\\\)\"  $(s\\)\n\nor recipe-replace d \"rm -f x\" a\n", Ok (tried_on 1 (ChangeValue (One (Some 2)) (codes "F") (edits.Add (codes "\\\\a"))) ∷ on_line 2 (Apply (ChangeValue (One (Some 4294967295)) (codes "F") (edits.Remove (codes "a:b")))) ∷ Chain (edit_on 3 (ChangeValue Every (codes "F") (edits.Remove (codes "-g")))) (edit_on 4 (ChangeValue (One None) (codes "F") (edits.Remove (codes "b")))) ((edit_on 6 (RenameTarget (codes "x.o") (codes "$$"))) ∷ []) ∷ on_line 7 (Apply (AddRecipe (Some 1) (codes "d") Last [])) ∷ on_line 8 (Apply (ChangeValue (One None) (codes "F") (edits.Add (codes "a:b")))) ∷ on_line 9 (Apply (SetRecipe None (codes "d") (ByText []) [])) ∷ Chain (edit_on 10 (ChangeValue (One (Some 0)) (codes "F") (edits.Remove (codes "a:b")))) (edit_on 11 (SetRecipe None (codes "d") (ByText []) (codes "t"))) [] ∷ tried_on 12 (ChangeValue Every (codes "F") (edits.Add (codes "-g"))) ∷ on_line 13 Redo ∷ Chain (edit_on 14 (ChangePrereqs None (codes "$(s\\)") (AddPrereq true (codes "$(s\\)")))) (edit_on 16 (SetRecipe None (codes "d") (ByText (codes "rm -f x")) (codes "a"))) [] ∷ [])) ∷  -- alternatives-280
    (codes "all  append  F  \"$(A -g)\"\r\ndrop F b\r\nundo\r\nall drop F \"$(A -g)\"\r\ndrop F \"-g\"\r\nundo\r\n\"append\" F $x\r\ndrop F b\r\n# c\r\nor  drop  F  -g", Ok (on_line 1 (Apply (ChangeValue Every (codes "F") (edits.Append (codes "$(A -g)")))) ∷ on_line 2 (Apply (ChangeValue (One None) (codes "F") (edits.Remove (codes "b")))) ∷ on_line 3 Undo ∷ on_line 4 (Apply (ChangeValue Every (codes "F") (edits.Remove (codes "$(A -g)")))) ∷ on_line 5 (Apply (ChangeValue (One None) (codes "F") (edits.Remove (codes "-g")))) ∷ on_line 6 Undo ∷ on_line 7 (Apply (ChangeValue (One None) (codes "F") (edits.Append (codes "$x")))) ∷ Chain (edit_on 8 (ChangeValue (One None) (codes "F") (edits.Remove (codes "b")))) (edit_on 10 (ChangeValue (One None) (codes "F") (edits.Remove (codes "-g")))) [] ∷ [])) ∷  -- alternatives-281
    (codes "redo\n\"drop\" F b\n append\tF\t\"= $\\\\x\"\n", Ok (on_line 1 Redo ∷ on_line 2 (Apply (ChangeValue (One None) (codes "F") (edits.Remove (codes "b")))) ∷ on_line 3 (Apply (ChangeValue (One None) (codes "F") (edits.Append (codes "= $\\x")))) ∷ [])) ∷  -- alternatives-282
    (codes "all \"add\" X b\n\nor nth 2 recipe-remove \"c\" \"x \\\\ y\"\n\"nth\"  000  add  X  -g\nor unrule c\n\"nth\"\t0\tset\tX\t\"\"\n\nor nth 2 add \"F\" \"$(w a)\"\nor all \"drop\" F \"a\\\\ \"\nrename a a&b\n# c\nor nth 002 \"recipe-insert\" c 4294967295 \"# n\"\n\"or\" nth \"1\" recipe-remove c \"# n\"\n# c\n\"or\" nth 4294967295 drop F \"a\\\\ \"\nnth  \"4294967295\"  \"drop\"  F  \"a\\\\ \"\nnth\t2\trecipe-insert\t\"c\"\t\"2\"\t\"ifdef Q\"\nundo\n\"add\"\t$(X)\t=\ntry recipe-set ${c} 002 define\nbegin\n", Ok (Chain (edit_on 1 (ChangeValue Every (codes "X") (edits.Add (codes "b")))) (edit_on 3 (RemoveLines (OfRecipe (Some 2) (codes "c") (ByText (codes "x \\ y"))))) [] ∷ Chain (edit_on 4 (ChangeValue (One (Some 0)) (codes "X") (edits.Add (codes "-g")))) (edit_on 5 (RemoveLines (OfRule None (codes "c")))) [] ∷ Chain (edit_on 6 (ChangeValue (One (Some 0)) (codes "X") (edits.Set []))) (edit_on 8 (ChangeValue (One (Some 2)) (codes "F") (edits.Add (codes "$(w a)")))) ((edit_on 9 (ChangeValue Every (codes "F") (edits.Remove (codes "a\\ ")))) ∷ []) ∷ Chain (edit_on 10 (RenameTarget (codes "a") (codes "a&b"))) (edit_on 12 (AddRecipe (Some 2) (codes "c") (At 4294967295) (codes "# n"))) ((edit_on 13 (RemoveLines (OfRecipe (Some 1) (codes "c") (ByText (codes "# n"))))) ∷ (edit_on 15 (ChangeValue (One (Some 4294967295)) (codes "F") (edits.Remove (codes "a\\ ")))) ∷ []) ∷ on_line 16 (Apply (ChangeValue (One (Some 4294967295)) (codes "F") (edits.Remove (codes "a\\ ")))) ∷ on_line 17 (Apply (AddRecipe (Some 2) (codes "c") (At 2) (codes "ifdef Q"))) ∷ on_line 18 Undo ∷ on_line 19 (Apply (ChangeValue (One None) (codes "$(X)") (edits.Add (codes "=")))) ∷ tried_on 20 (SetRecipe None (codes "${c}") (ByNumber 2) (codes "define")) ∷ on_line 21 Begin ∷ [])) ∷  -- alternatives-283
    (codes "try set override \"-include2\"\r\ndrop override -include2\r\nassign\tbefore-var\t\"override\"\tendef\t\"=\"\t\"\"\r\n", Ok (tried_on 1 (ChangeValue (One None) (codes "override") (edits.Set (codes "-include2"))) ∷ on_line 2 (Apply (ChangeValue (One None) (codes "override") (edits.Remove (codes "-include2")))) ∷ on_line 3 (Apply (AddLine (BeforeVar None (codes "override")) (NewAssign (codes "endef") Recursive []))) ∷ [])) ∷  -- alternatives-284
    (codes "nth 3 assign after-var F define :::= \"\"\nend\ntry nth 1 drop F \"-g\"\nnth 2 \"drop\" F -g\nundo\n nth 0 unset X\ndrop  define  \"$(A -g)\"\nor  recipe-insert  d  1  a\n# c\nor \"unset\" override\nor nth 3 add F \\\\a\ntry nth 3 add F -O2\nnth 2 append F a&b", Ok (on_line 1 (Apply (AddLine (AfterVar (Some 3) (codes "F")) (NewAssign (codes "define") Immediate []))) ∷ on_line 2 End ∷ tried_on 3 (ChangeValue (One (Some 1)) (codes "F") (edits.Remove (codes "-g"))) ∷ on_line 4 (Apply (ChangeValue (One (Some 2)) (codes "F") (edits.Remove (codes "-g")))) ∷ on_line 5 Undo ∷ on_line 6 (Apply (RemoveLines (OfAssign (Some 0) (codes "X")))) ∷ Chain (edit_on 7 (ChangeValue (One None) (codes "define") (edits.Remove (codes "$(A -g)")))) (edit_on 8 (AddRecipe None (codes "d") (At 1) (codes "a"))) ((edit_on 10 (RemoveLines (OfAssign None (codes "override")))) ∷ (edit_on 11 (ChangeValue (One (Some 3)) (codes "F") (edits.Add (codes "\\\\a")))) ∷ []) ∷ tried_on 12 (ChangeValue (One (Some 3)) (codes "F") (edits.Add (codes "-O2"))) ∷ on_line 13 (Apply (ChangeValue (One (Some 2)) (codes "F") (edits.Append (codes "a&b")))) ∷ [])) ∷  -- alternatives-285
    (codes "begin\r\nrecipe-insert  d  2  \"\"\r\nbegin\r\n\"try\" nth 4294967295 recipe-insert d \"1\" t\r\ntry all drop F ;", Ok (on_line 1 Begin ∷ on_line 2 (Apply (AddRecipe None (codes "d") (At 2) [])) ∷ on_line 3 Begin ∷ tried_on 4 (AddRecipe (Some 4294967295) (codes "d") (At 1) (codes "t")) ∷ tried_on 5 (ChangeValue Every (codes "F") (edits.Remove (codes ";"))) ∷ [])) ∷  -- alternatives-286
    (codes "try drop override \"${c}\"\r\nundo\r\nundo\r\nnth 1 add \"F\" -g\r\nnth 1 \"append\" F \"\"\r\n", Ok (tried_on 1 (ChangeValue (One None) (codes "override") (edits.Remove (codes "${c}"))) ∷ on_line 2 Undo ∷ on_line 3 Undo ∷ on_line 4 (Apply (ChangeValue (One (Some 1)) (codes "F") (edits.Add (codes "-g")))) ∷ on_line 5 (Apply (ChangeValue (One (Some 1)) (codes "F") (edits.Append []))) ∷ [])) ∷  -- alternatives-287
    (codes "\"all\" drop F -g\r\n try nth 2 append F \"\"\r\n \"add\"  F  =\r\ntry nth \"2\" \"append\" override \"$x $(w a)\"\r\nundo\r\nall\t\"append\"\t\"F\"\t\"\"\r\ntry all add F -g\r\n", Ok (on_line 1 (Apply (ChangeValue Every (codes "F") (edits.Remove (codes "-g")))) ∷ tried_on 2 (ChangeValue (One (Some 2)) (codes "F") (edits.Append [])) ∷ on_line 3 (Apply (ChangeValue (One None) (codes "F") (edits.Add (codes "=")))) ∷ tried_on 4 (ChangeValue (One (Some 2)) (codes "override") (edits.Append (codes "$x $(w a)"))) ∷ on_line 5 Undo ∷ on_line 6 (Apply (ChangeValue Every (codes "F") (edits.Append []))) ∷ tried_on 7 (ChangeValue Every (codes "F") (edits.Add (codes "-g"))) ∷ [])) ∷  -- alternatives-288
    (codes "end\r\nundo\r\n\"all\" drop F \"-g\"\r\n", Ok (on_line 1 End ∷ on_line 2 Undo ∷ on_line 3 (Apply (ChangeValue Every (codes "F") (edits.Remove (codes "-g")))) ∷ [])) ∷  -- alternatives-289
    (codes " recipe-remove d \"x \\\\ y\"\n\"all\" add \"F\" \"-O2\"\nall drop \"F\" \"-O2\"\nnth  1  \"unset\"  F\nset F \"| $(s (b) a)\"\ndrop F \"$(s (b) a)\"\ndrop F \"|\"\n", Ok (on_line 1 (Apply (RemoveLines (OfRecipe None (codes "d") (ByText (codes "x \\ y"))))) ∷ on_line 2 (Apply (ChangeValue Every (codes "F") (edits.Add (codes "-O2")))) ∷ on_line 3 (Apply (ChangeValue Every (codes "F") (edits.Remove (codes "-O2")))) ∷ on_line 4 (Apply (RemoveLines (OfAssign (Some 1) (codes "F")))) ∷ on_line 5 (Apply (ChangeValue (One None) (codes "F") (edits.Set (codes "| $(s (b) a)")))) ∷ on_line 6 (Apply (ChangeValue (One None) (codes "F") (edits.Remove (codes "$(s (b) a)")))) ∷ on_line 7 (Apply (ChangeValue (One None) (codes "F") (edits.Remove (codes "|")))) ∷ [])) ∷  -- alternatives-290
    (codes "recipe-remove c \"say \\\"q\\\"\"\n# c\nor \"nth\" 1 add \"F\" a:b\nor \"unset\" \"F\"\n\"nth\"\t\"1\"\tdrop\tF\ta\n \nor recipe-replace x.o \"# n\" true\ndrop  X  \"a\\\\$ x=1\"\nbegin\n\"recipe-insert\" c \"002\" \" a\"\n\nor nth 1 append F \"\"\n", Ok (Chain (edit_on 1 (RemoveLines (OfRecipe None (codes "c") (ByText (codes "say \"q\""))))) (edit_on 3 (ChangeValue (One (Some 1)) (codes "F") (edits.Add (codes "a:b")))) ((edit_on 4 (RemoveLines (OfAssign None (codes "F")))) ∷ []) ∷ Chain (edit_on 5 (ChangeValue (One (Some 1)) (codes "F") (edits.Remove (codes "a")))) (edit_on 7 (SetRecipe None (codes "x.o") (ByText (codes "# n")) (codes "true"))) [] ∷ on_line 8 (Apply (ChangeValue (One None) (codes "X") (edits.Remove (codes "a\\$ x=1")))) ∷ on_line 9 Begin ∷ Chain (edit_on 10 (AddRecipe None (codes "c") (At 2) (codes " a"))) (edit_on 12 (ChangeValue (One (Some 1)) (codes "F") (edits.Append []))) [] ∷ [])) ∷  -- alternatives-291
    (codes "recipe-remove include \"a\"\nrecipe-replace  d  \"true\"  true\nrecipe-insert d 1 \"\"\n\"try\" recipe-insert d 3 a\\\\\nappend a.b \"\"\n\"recipe-insert\" include 001 b\n\"recipe-insert\" include \"3\" \" a\"\ntry all set X ;\nunset F\n", Ok (on_line 1 (Apply (RemoveLines (OfRecipe None (codes "include") (ByText (codes "a"))))) ∷ on_line 2 (Apply (SetRecipe None (codes "d") (ByText (codes "true")) (codes "true"))) ∷ on_line 3 (Apply (AddRecipe None (codes "d") (At 1) [])) ∷ tried_on 4 (AddRecipe None (codes "d") (At 3) (codes "a\\\\")) ∷ on_line 5 (Apply (ChangeValue (One None) (codes "a.b") (edits.Append []))) ∷ on_line 6 (Apply (AddRecipe None (codes "include") (At 1) (codes "b"))) ∷ on_line 7 (Apply (AddRecipe None (codes "include") (At 3) (codes " a"))) ∷ tried_on 8 (ChangeValue Every (codes "X") (edits.Set (codes ";"))) ∷ on_line 9 (Apply (RemoveLines (OfAssign None (codes "F")))) ∷ [])) ∷  -- alternatives-292
    (codes "\"nth\"  1  drop  F  \"=\"\n try nth 2 drop \"F\" -g\ntry all set \"X\" \"a a\"\nall add F \"$\\\\x\"\n\"nth\" 001 \"add\" F -g\ntry nth 2 append F -O2\n nth 1 unset F\n", Ok (on_line 1 (Apply (ChangeValue (One (Some 1)) (codes "F") (edits.Remove (codes "=")))) ∷ tried_on 2 (ChangeValue (One (Some 2)) (codes "F") (edits.Remove (codes "-g"))) ∷ tried_on 3 (ChangeValue Every (codes "X") (edits.Set (codes "a a"))) ∷ on_line 4 (Apply (ChangeValue Every (codes "F") (edits.Add (codes "$\\x")))) ∷ on_line 5 (Apply (ChangeValue (One (Some 1)) (codes "F") (edits.Add (codes "-g")))) ∷ tried_on 6 (ChangeValue (One (Some 2)) (codes "F") (edits.Append (codes "-O2"))) ∷ on_line 7 (Apply (RemoveLines (OfAssign (Some 1) (codes "F")))) ∷ [])) ∷  -- alternatives-293
    (codes "nth 0 drop override \"$ a\"\r\nall  add  \"override\"  \"$(w a)\"\r\nunset override\r\ntry nth 0 recipe-insert d \"1\" a\r\ntry  all  drop  +  =\r\ntry assign before-var X A = c\r\n", Ok (on_line 1 (Apply (ChangeValue (One (Some 0)) (codes "override") (edits.Remove (codes "$ a")))) ∷ on_line 2 (Apply (ChangeValue Every (codes "override") (edits.Add (codes "$(w a)")))) ∷ on_line 3 (Apply (RemoveLines (OfAssign None (codes "override")))) ∷ tried_on 4 (AddRecipe (Some 0) (codes "d") (At 1) (codes "a")) ∷ tried_on 5 (ChangeValue Every (codes "+") (edits.Remove (codes "="))) ∷ tried_on 6 (AddLine (BeforeVar None (codes "X")) (NewAssign (codes "A") Recursive (codes "c"))) ∷ [])) ∷  -- alternatives-294
    (codes " \t\n\nnth 1 add F b\n\nor recipe-insert c 2 \"\ttrue\"\n\"or\" nth 002 drop \"F\" -g\nrecipe-insert c 2 \"rm -f x\"\nend\nnth \"001\" \"set\" \"F\" $$\nrecipe-replace\tc\t\"rm -f x\"\t\" a\"\n# c\n\"or\" nth 4294967295 unset X\n \nor \"recipe-replace\" c \"rm -f x\" \"a\"\n\"unrule\" \"c\"\ntry nth 2 add \"F\" \"|\"\nnth \"2\" \"set\" \"F\" -include2", Ok (Chain (edit_on 3 (ChangeValue (One (Some 1)) (codes "F") (edits.Add (codes "b")))) (edit_on 5 (AddRecipe None (codes "c") (At 2) (codes "\ttrue"))) ((edit_on 6 (ChangeValue (One (Some 2)) (codes "F") (edits.Remove (codes "-g")))) ∷ []) ∷ on_line 7 (Apply (AddRecipe None (codes "c") (At 2) (codes "rm -f x"))) ∷ on_line 8 End ∷ on_line 9 (Apply (ChangeValue (One (Some 1)) (codes "F") (edits.Set (codes "$$")))) ∷ Chain (edit_on 10 (SetRecipe None (codes "c") (ByText (codes "rm -f x")) (codes " a"))) (edit_on 12 (RemoveLines (OfAssign (Some 4294967295) (codes "X")))) ((edit_on 14 (SetRecipe None (codes "c") (ByText (codes "rm -f x")) (codes "a"))) ∷ []) ∷ on_line 15 (Apply (RemoveLines (OfRule None (codes "c")))) ∷ tried_on 16 (ChangeValue (One (Some 2)) (codes "F") (edits.Add (codes "|"))) ∷ on_line 17 (Apply (ChangeValue (One (Some 2)) (codes "F") (edits.Set (codes "-include2")))) ∷ [])) ∷  -- alternatives-295
    (codes "drop \"X\" a:b\ntry  nth  \"1\"  add  X  a\n", Ok (on_line 1 (Apply (ChangeValue (One None) (codes "X") (edits.Remove (codes "a:b")))) ∷ tried_on 2 (ChangeValue (One (Some 1)) (codes "X") (edits.Add (codes "a"))) ∷ [])) ∷  -- alternatives-296
    (codes "drop \"F\" b\ndrop F -O2\nadd X -O2\nundo", Ok (on_line 1 (Apply (ChangeValue (One None) (codes "F") (edits.Remove (codes "b")))) ∷ on_line 2 (Apply (ChangeValue (One None) (codes "F") (edits.Remove (codes "-O2")))) ∷ on_line 3 (Apply (ChangeValue (One None) (codes "X") (edits.Add (codes "-O2")))) ∷ on_line 4 Undo ∷ [])) ∷  -- alternatives-297
    (codes "try append a.b \"\"\nunset F\nrecipe-remove c true\n \n\"or\"\t\"nth\"\t\"001\"\t\"drop\"\tF\tb\nset override \"$ b a\"\ntry all append a.b \"a -g\"\n\"set\" override \"b $x\"", Ok (tried_on 1 (ChangeValue (One None) (codes "a.b") (edits.Append [])) ∷ on_line 2 (Apply (RemoveLines (OfAssign None (codes "F")))) ∷ Chain (edit_on 3 (RemoveLines (OfRecipe None (codes "c") (ByText (codes "true"))))) (edit_on 5 (ChangeValue (One (Some 1)) (codes "F") (edits.Remove (codes "b")))) [] ∷ on_line 6 (Apply (ChangeValue (One None) (codes "override") (edits.Set (codes "$ b a")))) ∷ tried_on 7 (ChangeValue Every (codes "a.b") (edits.Append (codes "a -g"))) ∷ on_line 8 (Apply (ChangeValue (One None) (codes "override") (edits.Set (codes "b $x")))) ∷ [])) ∷  -- alternatives-298
    (codes "\"try\"  rule  bottom  x.o  :  \"\"\ndrop\tX\t\"x=1\"\nunrule x.o\n", Ok (tried_on 1 (AddLine Bottom (NewRule (codes "x.o") Single [])) ∷ on_line 2 (Apply (ChangeValue (One None) (codes "X") (edits.Remove (codes "x=1")))) ∷ on_line 3 (Apply (RemoveLines (OfRule None (codes "x.o")))) ∷ [])) ∷  -- alternatives-299
    (codes "nth \"0\" drop X -O2\r\n# c\r\nor \"nth\" 4294967295 append F \"$(A -g)\"\r\n# c\r\nor  nth  2  assign  before-var  X  \"Y\"  ?=  \"= .PHONY\"\r\n", Ok (Chain (edit_on 1 (ChangeValue (One (Some 0)) (codes "X") (edits.Remove (codes "-O2")))) (edit_on 3 (ChangeValue (One (Some 4294967295)) (codes "F") (edits.Append (codes "$(A -g)")))) ((edit_on 5 (AddLine (BeforeVar (Some 2) (codes "X")) (NewAssign (codes "Y") Conditional (codes "= .PHONY")))) ∷ []) ∷ [])) ∷  -- alternatives-300
    (codes "recipe-insert c \"000\" \"rm -f x\"\r\nredo\r\nnth 4294967295 recipe-remove c \"a # b\"\r\nnth 2 \"add\" F $\\x\r\nunset override\r\n \r\nor nth 2 drop \"F\" b\r\nnth 0 recipe-replace c \"ifdef Q\" true\r\n", Ok (on_line 1 (Apply (AddRecipe None (codes "c") (At 0) (codes "rm -f x"))) ∷ on_line 2 Redo ∷ on_line 3 (Apply (RemoveLines (OfRecipe (Some 4294967295) (codes "c") (ByText (codes "a # b"))))) ∷ on_line 4 (Apply (ChangeValue (One (Some 2)) (codes "F") (edits.Add (codes "$\\x")))) ∷ Chain (edit_on 5 (RemoveLines (OfAssign None (codes "override")))) (edit_on 7 (ChangeValue (One (Some 2)) (codes "F") (edits.Remove (codes "b")))) [] ∷ on_line 8 (Apply (SetRecipe (Some 0) (codes "c") (ByText (codes "ifdef Q")) (codes "true"))) ∷ [])) ∷  -- alternatives-301
    (codes " all add Y! |\n\"drop\" \"X\" Ã©\nnth 002 \"set\" F \"$(s (b) a)\"\nappend\tF\t\"$(w a) ;\"\nall \"add\" X ;\n nth 2 append F \"\"\nall append F \"a$ b\"\nset override \"\"\n", Ok (on_line 1 (Apply (ChangeValue Every (codes "Y!") (edits.Add (codes "|")))) ∷ on_line 2 (Apply (ChangeValue (One None) (codes "X") (edits.Remove (codes "Ã©")))) ∷ on_line 3 (Apply (ChangeValue (One (Some 2)) (codes "F") (edits.Set (codes "$(s (b) a)")))) ∷ on_line 4 (Apply (ChangeValue (One None) (codes "F") (edits.Append (codes "$(w a) ;")))) ∷ on_line 5 (Apply (ChangeValue Every (codes "X") (edits.Add (codes ";")))) ∷ on_line 6 (Apply (ChangeValue (One (Some 2)) (codes "F") (edits.Append []))) ∷ on_line 7 (Apply (ChangeValue Every (codes "F") (edits.Append (codes "a$ b")))) ∷ on_line 8 (Apply (ChangeValue (One None) (codes "override") (edits.Set []))) ∷ [])) ∷  -- alternatives-302
    (codes "nth \"0\" drop a.b -g\nnth 4294967295 recipe-insert c 001 \"b\"\n# c\nor\tappend\tF\tb\nor assign bottom Y :::= \"$(a b)\"\nadd F a\n# c\nor \"all\" \"append\" \"Y\" \"a $x\"\n", Ok (on_line 1 (Apply (ChangeValue (One (Some 0)) (codes "a.b") (edits.Remove (codes "-g")))) ∷ Chain (edit_on 2 (AddRecipe (Some 4294967295) (codes "c") (At 1) (codes "b"))) (edit_on 4 (ChangeValue (One None) (codes "F") (edits.Append (codes "b")))) ((edit_on 5 (AddLine Bottom (NewAssign (codes "Y") Immediate (codes "$(a b)")))) ∷ []) ∷ Chain (edit_on 6 (ChangeValue (One None) (codes "F") (edits.Add (codes "a")))) (edit_on 8 (ChangeValue Every (codes "Y") (edits.Append (codes "a $x")))) [] ∷ [])) ∷  -- alternatives-303
    (codes "try append \"F\" -O2\nnth \"1\" recipe-remove c y\nnth\t001\tdrop\tX\t-g\nor\trecipe-remove\tc\ttrue\n", Ok (tried_on 1 (ChangeValue (One None) (codes "F") (edits.Append (codes "-O2"))) ∷ on_line 2 (Apply (RemoveLines (OfRecipe (Some 1) (codes "c") (ByText (codes "y"))))) ∷ Chain (edit_on 3 (ChangeValue (One (Some 1)) (codes "X") (edits.Remove (codes "-g")))) (edit_on 4 (RemoveLines (OfRecipe None (codes "c") (ByText (codes "true"))))) [] ∷ [])) ∷  -- alternatives-304
    (codes "\"all\" drop F \"-g\"\n\"recipe-insert\" \"%.o\" 1 \"a # b\"\n\"recipe-replace\" %.o \"say \\\"q\\\"\" \"rm -f x\"\nundo\nunset\toverride\nor nth 001 \"add\" \"X\" -g\nor recipe-replace %.o \"say \\\"q\\\"\" \"\ttrue\"\n\"recipe-replace\"\t\"%.o\"\t\"\ttrue\"\t\"a # b\"\nassign bottom a.b \":=\" $(s\\)", Ok (on_line 1 (Apply (ChangeValue Every (codes "F") (edits.Remove (codes "-g")))) ∷ on_line 2 (Apply (AddRecipe None (codes "%.o") (At 1) (codes "a # b"))) ∷ on_line 3 (Apply (SetRecipe None (codes "%.o") (ByText (codes "say \"q\"")) (codes "rm -f x"))) ∷ on_line 4 Undo ∷ Chain (edit_on 5 (RemoveLines (OfAssign None (codes "override")))) (edit_on 6 (ChangeValue (One (Some 1)) (codes "X") (edits.Add (codes "-g")))) ((edit_on 7 (SetRecipe None (codes "%.o") (ByText (codes "say \"q\"")) (codes "\ttrue"))) ∷ []) ∷ on_line 8 (Apply (SetRecipe None (codes "%.o") (ByText (codes "\ttrue")) (codes "a # b"))) ∷ on_line 9 (Apply (AddLine Bottom (NewAssign (codes "a.b") Simple (codes "$(s\\)")))) ∷ [])) ∷  -- alternatives-305
    (codes "nth  1  drop  X  a:b\ndrop\tX\t\"$(s (b) a)\"\n\nor undepend d \"$(f {)\"\n\"or\"\tnth\t000\trecipe-insert\t\"c\"\t001\t\"t\"\nor recipe-replace \"d\" b \"\"\nnth 4294967295 recipe-remove d \"ifdef Q\"\nunset F\ndrop X -g", Ok (on_line 1 (Apply (ChangeValue (One (Some 1)) (codes "X") (edits.Remove (codes "a:b")))) ∷ Chain (edit_on 2 (ChangeValue (One None) (codes "X") (edits.Remove (codes "$(s (b) a)")))) (edit_on 4 (ChangePrereqs None (codes "d") (RemovePrereq (codes "$(f {)")))) ((edit_on 5 (AddRecipe (Some 0) (codes "c") (At 1) (codes "t"))) ∷ (edit_on 6 (SetRecipe None (codes "d") (ByText (codes "b")) [])) ∷ []) ∷ on_line 7 (Apply (RemoveLines (OfRecipe (Some 4294967295) (codes "d") (ByText (codes "ifdef Q"))))) ∷ on_line 8 (Apply (RemoveLines (OfAssign None (codes "F")))) ∷ on_line 9 (Apply (ChangeValue (One None) (codes "X") (edits.Remove (codes "-g")))) ∷ [])) ∷  -- alternatives-306
    (codes "try set override \"$(A -g)\"\n# or\nbegin\nall \"set\" X \"$(A -g)\"\ndrop X \"$(A -g)\"\ntry nth 1 set F 2\nassign before-rule c ifdef = \"\"\n", Ok (tried_on 1 (ChangeValue (One None) (codes "override") (edits.Set (codes "$(A -g)"))) ∷ on_line 3 Begin ∷ on_line 4 (Apply (ChangeValue Every (codes "X") (edits.Set (codes "$(A -g)")))) ∷ on_line 5 (Apply (ChangeValue (One None) (codes "X") (edits.Remove (codes "$(A -g)")))) ∷ tried_on 6 (ChangeValue (One (Some 1)) (codes "F") (edits.Set (codes "2"))) ∷ on_line 7 (Apply (AddLine (BeforeRule None (codes "c")) (NewAssign (codes "ifdef") Recursive []))) ∷ [])) ∷  -- alternatives-307
    (codes "nth 0 unset X\nor\tunset\ta.b\n or \"nth\" 002 drop F \\#\n\"or\" recipe c $(\nundo\nnth 2 set \"F\" \"b a\"\nall add F a\nnth 0 drop X b\n nth \"4294967295\" unset a.b", Ok (Chain (edit_on 1 (RemoveLines (OfAssign (Some 0) (codes "X")))) (edit_on 2 (RemoveLines (OfAssign None (codes "a.b")))) ((edit_on 3 (ChangeValue (One (Some 2)) (codes "F") (edits.Remove (codes "\\#")))) ∷ (edit_on 4 (AddRecipe None (codes "c") Last (codes "$("))) ∷ []) ∷ on_line 5 Undo ∷ on_line 6 (Apply (ChangeValue (One (Some 2)) (codes "F") (edits.Set (codes "b a")))) ∷ on_line 7 (Apply (ChangeValue Every (codes "F") (edits.Add (codes "a")))) ∷ on_line 8 (Apply (ChangeValue (One (Some 0)) (codes "X") (edits.Remove (codes "b")))) ∷ on_line 9 (Apply (RemoveLines (OfAssign (Some 4294967295) (codes "a.b")))) ∷ [])) ∷  -- alternatives-308
    (codes "drop F b\r\n\"try\" nth 4294967295 drop F -g\r\nrule bottom \"$(f {) b\" : \"$(p #)\"\r\n\"all\" drop F \"-g\"\r\nundo\r\nundo\r\nall\t\"add\"\tF\t\"$(t -g)\"\r\n", Ok (on_line 1 (Apply (ChangeValue (One None) (codes "F") (edits.Remove (codes "b")))) ∷ tried_on 2 (ChangeValue (One (Some 4294967295)) (codes "F") (edits.Remove (codes "-g"))) ∷ on_line 3 (Apply (AddLine Bottom (NewRule (codes "$(f {) b") Single (codes "$(p #)")))) ∷ on_line 4 (Apply (ChangeValue Every (codes "F") (edits.Remove (codes "-g")))) ∷ on_line 5 Undo ∷ on_line 6 Undo ∷ on_line 7 (Apply (ChangeValue Every (codes "F") (edits.Add (codes "$(t -g)")))) ∷ [])) ∷  -- alternatives-309
    (codes "\"recipe-insert\" c \"1\" true\n\"try\" add F \"a\\\\ b\"\nadd override \"a$ b\"\nrule bottom \"foo\" \":\" \"$$ $$\"\n\"all\" drop F \"-g\"\n", Ok (on_line 1 (Apply (AddRecipe None (codes "c") (At 1) (codes "true"))) ∷ tried_on 2 (ChangeValue (One None) (codes "F") (edits.Add (codes "a\\ b"))) ∷ on_line 3 (Apply (ChangeValue (One None) (codes "override") (edits.Add (codes "a$ b")))) ∷ on_line 4 (Apply (AddLine Bottom (NewRule (codes "foo") Single (codes "$$ $$")))) ∷ on_line 5 (Apply (ChangeValue Every (codes "F") (edits.Remove (codes "-g")))) ∷ [])) ∷  -- alternatives-310
    (codes "nth 1 rule before-rule c \"$$ $(f {)\" : \"\"\n\"nth\"  2  drop  F  \"-g\"\n", Ok (on_line 1 (Apply (AddLine (BeforeRule (Some 1) (codes "c")) (NewRule (codes "$$ $(f {)") Single []))) ∷ on_line 2 (Apply (ChangeValue (One (Some 2)) (codes "F") (edits.Remove (codes "-g")))) ∷ [])) ∷  -- alternatives-311
    (codes "assign bottom define = a&b\r\nnth 1 add F \\#\r\nunset a.b\r\nnth\t4294967295\t\"unset\"\tF\r\n \r\nor \"all\" drop \"define\" -O2\r\nor add F =", Ok (on_line 1 (Apply (AddLine Bottom (NewAssign (codes "define") Recursive (codes "a&b")))) ∷ on_line 2 (Apply (ChangeValue (One (Some 1)) (codes "F") (edits.Add (codes "\\#")))) ∷ on_line 3 (Apply (RemoveLines (OfAssign None (codes "a.b")))) ∷ Chain (edit_on 4 (RemoveLines (OfAssign (Some 4294967295) (codes "F")))) (edit_on 6 (ChangeValue Every (codes "define") (edits.Remove (codes "-O2")))) ((edit_on 7 (ChangeValue (One None) (codes "F") (edits.Add (codes "=")))) ∷ []) ∷ [])) ∷  -- alternatives-312
    (codes "add X -g\r\n\"try\" append a.b \"$(w a)\"\r\nredo\r\nnth 000 \"recipe-insert\" d \"1\" t\r\n\r\nor recipe-remove d \" a\"\r\nor unset override\r\n \r\nor nth 1 append F \"x.o\"\r\nall drop F =\r\n\r\n\"all\"\tappend\tF\tx=1\r\nor recipe-remove \"d\" true", Ok (on_line 1 (Apply (ChangeValue (One None) (codes "X") (edits.Add (codes "-g")))) ∷ tried_on 2 (ChangeValue (One None) (codes "a.b") (edits.Append (codes "$(w a)"))) ∷ on_line 3 Redo ∷ Chain (edit_on 4 (AddRecipe (Some 0) (codes "d") (At 1) (codes "t"))) (edit_on 6 (RemoveLines (OfRecipe None (codes "d") (ByText (codes " a"))))) ((edit_on 7 (RemoveLines (OfAssign None (codes "override")))) ∷ (edit_on 9 (ChangeValue (One (Some 1)) (codes "F") (edits.Append (codes "x.o")))) ∷ []) ∷ on_line 10 (Apply (ChangeValue Every (codes "F") (edits.Remove (codes "=")))) ∷ Chain (edit_on 12 (ChangeValue Every (codes "F") (edits.Append (codes "x=1")))) (edit_on 13 (RemoveLines (OfRecipe None (codes "d") (ByText (codes "true"))))) [] ∷ [])) ∷  -- alternatives-313
    (codes "\"rule\" \"after-var\" F \"$(f {)\" : \"\"\nor add \"F\" -g\n\nor \"drop\" \"a.b\" a\ntry \"nth\" 001 add \"override\" \"$ b\"\nall  drop  \"F\"  a\nrename \"$(f {)\" $x\nbegin\n", Ok (Chain (edit_on 1 (AddLine (AfterVar None (codes "F")) (NewRule (codes "$(f {)") Single []))) (edit_on 2 (ChangeValue (One None) (codes "F") (edits.Add (codes "-g")))) ((edit_on 4 (ChangeValue (One None) (codes "a.b") (edits.Remove (codes "a")))) ∷ []) ∷ tried_on 5 (ChangeValue (One (Some 1)) (codes "override") (edits.Add (codes "$ b"))) ∷ on_line 6 (Apply (ChangeValue Every (codes "F") (edits.Remove (codes "a")))) ∷ on_line 7 (Apply (RenameTarget (codes "$(f {)") (codes "$x"))) ∷ on_line 8 Begin ∷ [])) ∷  -- alternatives-314
    (codes "set a.b \"\"\ndrop\tF\t-O2\ntry nth 2 drop a.b \"$(A -g)\"\nall \"drop\" F b\nunset \"a.b\"\ntry \"append\" X a\nall\tappend\tF\t\"$(a b)\"\nadd\tF\t-O2\n", Ok (on_line 1 (Apply (ChangeValue (One None) (codes "a.b") (edits.Set []))) ∷ on_line 2 (Apply (ChangeValue (One None) (codes "F") (edits.Remove (codes "-O2")))) ∷ tried_on 3 (ChangeValue (One (Some 2)) (codes "a.b") (edits.Remove (codes "$(A -g)"))) ∷ on_line 4 (Apply (ChangeValue Every (codes "F") (edits.Remove (codes "b")))) ∷ on_line 5 (Apply (RemoveLines (OfAssign None (codes "a.b")))) ∷ tried_on 6 (ChangeValue (One None) (codes "X") (edits.Append (codes "a"))) ∷ on_line 7 (Apply (ChangeValue Every (codes "F") (edits.Append (codes "$(a b)")))) ∷ on_line 8 (Apply (ChangeValue (One None) (codes "F") (edits.Add (codes "-O2")))) ∷ [])) ∷  -- alternatives-315
    (codes "nth  1  recipe-replace  c  \"ifdef Q\"  \"\ttrue\"\nor recipe-remove c true\ntry all drop F -g\ntry nth 1 recipe-insert c 4294967295 true\nnth \"2\" recipe-remove c \" a\"\nbegin\ntry all drop F -g\nnth  1  recipe-insert  c  \"1\"  >a\n nth  4294967295  \"drop\"  a.b  b\n \nor  append  a.b  \"b a:b\"\n \nor nth 1 recipe-set c \"001\" \"y # z\"\nrecipe-replace \"include\" \"a # b\" \"ifdef Q\"", Ok (Chain (edit_on 1 (SetRecipe (Some 1) (codes "c") (ByText (codes "ifdef Q")) (codes "\ttrue"))) (edit_on 2 (RemoveLines (OfRecipe None (codes "c") (ByText (codes "true"))))) [] ∷ tried_on 3 (ChangeValue Every (codes "F") (edits.Remove (codes "-g"))) ∷ tried_on 4 (AddRecipe (Some 1) (codes "c") (At 4294967295) (codes "true")) ∷ on_line 5 (Apply (RemoveLines (OfRecipe (Some 2) (codes "c") (ByText (codes " a"))))) ∷ on_line 6 Begin ∷ tried_on 7 (ChangeValue Every (codes "F") (edits.Remove (codes "-g"))) ∷ on_line 8 (Apply (AddRecipe (Some 1) (codes "c") (At 1) (codes ">a"))) ∷ Chain (edit_on 9 (ChangeValue (One (Some 4294967295)) (codes "a.b") (edits.Remove (codes "b")))) (edit_on 11 (ChangeValue (One None) (codes "a.b") (edits.Append (codes "b a:b")))) ((edit_on 13 (SetRecipe (Some 1) (codes "c") (ByNumber 1) (codes "y # z"))) ∷ []) ∷ on_line 14 (Apply (SetRecipe None (codes "include") (ByText (codes "a # b")) (codes "ifdef Q"))) ∷ [])) ∷  -- alternatives-316
    (codes "try\t\"drop\"\tF\ta\n\"all\"\tadd\toverride\t\"x$(a  b)\"\nrecipe-insert\tc\t5\t>a\n\"recipe-insert\" c 3 t\n\"nth\" 000 recipe-insert c 1 \"rm -f x\"\nor\tnth\t4294967295\tdrop\tF\t-g\n# c\nor recipe-remove \"%.o\" \"rm -f x\"\nnth \"0\" recipe-remove %.o true\n", Ok (tried_on 1 (ChangeValue (One None) (codes "F") (edits.Remove (codes "a"))) ∷ on_line 2 (Apply (ChangeValue Every (codes "override") (edits.Add (codes "x$(a  b)")))) ∷ on_line 3 (Apply (AddRecipe None (codes "c") (At 5) (codes ">a"))) ∷ on_line 4 (Apply (AddRecipe None (codes "c") (At 3) (codes "t"))) ∷ Chain (edit_on 5 (AddRecipe (Some 0) (codes "c") (At 1) (codes "rm -f x"))) (edit_on 6 (ChangeValue (One (Some 4294967295)) (codes "F") (edits.Remove (codes "-g")))) ((edit_on 8 (RemoveLines (OfRecipe None (codes "%.o") (ByText (codes "rm -f x"))))) ∷ []) ∷ on_line 9 (Apply (RemoveLines (OfRecipe (Some 0) (codes "%.o") (ByText (codes "true"))))) ∷ [])) ∷  -- alternatives-317
    (codes "nth\t000\tdepend\ta&b\ta\nor add F \"-g\"\n\nor all drop F \"$(t -g)\"\nnth\t\"2\"\tdrop\tF\t-g\n\"all\" add F \"-g\"\n \nor set X \"$(t -g)\"\nor \"add\" .RECIPEPREFIX x=1\nundo\n\"try\" \"all\" \"add\" F -g", Ok (Chain (edit_on 1 (ChangePrereqs (Some 0) (codes "a&b") (AddPrereq false (codes "a")))) (edit_on 2 (ChangeValue (One None) (codes "F") (edits.Add (codes "-g")))) ((edit_on 4 (ChangeValue Every (codes "F") (edits.Remove (codes "$(t -g)")))) ∷ []) ∷ on_line 5 (Apply (ChangeValue (One (Some 2)) (codes "F") (edits.Remove (codes "-g")))) ∷ Chain (edit_on 6 (ChangeValue Every (codes "F") (edits.Add (codes "-g")))) (edit_on 8 (ChangeValue (One None) (codes "X") (edits.Set (codes "$(t -g)")))) ((edit_on 9 (ChangeValue (One None) (codes ".RECIPEPREFIX") (edits.Add (codes "x=1")))) ∷ []) ∷ on_line 10 Undo ∷ tried_on 11 (ChangeValue Every (codes "F") (edits.Add (codes "-g"))) ∷ [])) ∷  -- alternatives-318
    (codes "undo\r\n\"try\" \"all\" \"add\" F -g\r\nredo\r\n", Ok (on_line 1 Undo ∷ tried_on 2 (ChangeValue Every (codes "F") (edits.Add (codes "-g"))) ∷ on_line 3 Redo ∷ [])) ∷  -- alternatives-319
    (codes "set F \"$(t -g)\"\nunset F\n\"append\" X \"\"\ntry  recipe-insert  c  4294967295  \"a\"\ntry  rename  a  ${g(}\nrecipe-insert\tc\t4\ttrue\nnth \"001\" unrule c\nall  \"drop\"  override  $x\ntry drop override ;\n", Ok (on_line 1 (Apply (ChangeValue (One None) (codes "F") (edits.Set (codes "$(t -g)")))) ∷ on_line 2 (Apply (RemoveLines (OfAssign None (codes "F")))) ∷ on_line 3 (Apply (ChangeValue (One None) (codes "X") (edits.Append []))) ∷ tried_on 4 (AddRecipe None (codes "c") (At 4294967295) (codes "a")) ∷ tried_on 5 (RenameTarget (codes "a") (codes "${g(}")) ∷ on_line 6 (Apply (AddRecipe None (codes "c") (At 4) (codes "true"))) ∷ on_line 7 (Apply (RemoveLines (OfRule (Some 1) (codes "c")))) ∷ on_line 8 (Apply (ChangeValue Every (codes "override") (edits.Remove (codes "$x")))) ∷ tried_on 9 (ChangeValue (One None) (codes "override") (edits.Remove (codes ";"))) ∷ [])) ∷  -- alternatives-320
    (codes "\"try\" unset F\r\n\"try\" \"recipe-insert\" c \"1\" true\r\ndrop  F  \"$(a b)\"\r\n all add \"X$:\" \"b\"\r\ntry drop F \"a$ b\"\r\n", Ok (tried_on 1 (RemoveLines (OfAssign None (codes "F"))) ∷ tried_on 2 (AddRecipe None (codes "c") (At 1) (codes "true")) ∷ on_line 3 (Apply (ChangeValue (One None) (codes "F") (edits.Remove (codes "$(a b)")))) ∷ on_line 4 (Apply (ChangeValue Every (codes "X$:") (edits.Add (codes "b")))) ∷ tried_on 5 (ChangeValue (One None) (codes "F") (edits.Remove (codes "a$ b"))) ∷ [])) ∷  -- alternatives-321
    (codes "unset  \"override\"\r\n\r\n or unset \"a.b\"\r\nor  \"rule\"  bottom  \"-include2\"  :  \"$(p #) $(a b)\"\r\n# c\r\n or nth 2 drop F \"x$(a  b)\"\r\nnth 001 add F a\r\nundo\r\nrecipe-replace\tc\t\"ifdef Q\"\ttrue\r\n\r\n\"or\"  \"nth\"  1  recipe-remove  c  t\r\nappend F -g\r\n", Ok (Chain (edit_on 1 (RemoveLines (OfAssign None (codes "override")))) (edit_on 3 (RemoveLines (OfAssign None (codes "a.b")))) ((edit_on 4 (AddLine Bottom (NewRule (codes "-include2") Single (codes "$(p #) $(a b)")))) ∷ (edit_on 6 (ChangeValue (One (Some 2)) (codes "F") (edits.Remove (codes "x$(a  b)")))) ∷ []) ∷ on_line 7 (Apply (ChangeValue (One (Some 1)) (codes "F") (edits.Add (codes "a")))) ∷ on_line 8 Undo ∷ Chain (edit_on 9 (SetRecipe None (codes "c") (ByText (codes "ifdef Q")) (codes "true"))) (edit_on 11 (RemoveLines (OfRecipe (Some 1) (codes "c") (ByText (codes "t"))))) [] ∷ on_line 12 (Apply (ChangeValue (One None) (codes "F") (edits.Append (codes "-g")))) ∷ [])) ∷  -- alternatives-322
    (codes "nth\t0\trecipe-remove\td\t\"b\"\nbegin\nnth 001 unset F\nall append \"override\" \"-g\"\n\"try\" recipe-insert c 001 true\nnth 2 add override =\n all \"add\" F ;\n \nor set \"override\" \"\"\n\"unset\" F\n", Ok (on_line 1 (Apply (RemoveLines (OfRecipe (Some 0) (codes "d") (ByText (codes "b"))))) ∷ on_line 2 Begin ∷ on_line 3 (Apply (RemoveLines (OfAssign (Some 1) (codes "F")))) ∷ on_line 4 (Apply (ChangeValue Every (codes "override") (edits.Append (codes "-g")))) ∷ tried_on 5 (AddRecipe None (codes "c") (At 1) (codes "true")) ∷ on_line 6 (Apply (ChangeValue (One (Some 2)) (codes "override") (edits.Add (codes "=")))) ∷ Chain (edit_on 7 (ChangeValue Every (codes "F") (edits.Add (codes ";")))) (edit_on 9 (ChangeValue (One None) (codes "override") (edits.Set []))) [] ∷ on_line 10 (Apply (RemoveLines (OfAssign None (codes "F")))) ∷ [])) ∷  -- alternatives-323
    (codes "nth \"4294967295\" drop F a:b\r\n\r\nor  \"recipe-remove\"  c  \"rm -rf x\\\\\"\r\nrecipe-insert c 2 a\r\n", Ok (Chain (edit_on 1 (ChangeValue (One (Some 4294967295)) (codes "F") (edits.Remove (codes "a:b")))) (edit_on 3 (RemoveLines (OfRecipe None (codes "c") (ByText (codes "rm -rf x\\"))))) [] ∷ on_line 4 (Apply (AddRecipe None (codes "c") (At 2) (codes "a"))) ∷ [])) ∷  -- alternatives-324
    (codes " nth 1 unset F\nnth 2 \"rule\" before-rule c \"$(f {)\" : \"\"\n\"nth\" 002 add X b\n\"nth\" \"1\" append F -O2\n \n \"or\"  drop  \"F\"  a\n\n\"or\" nth 002 recipe-remove c \"a\"\n \nor\tnth\t002\trecipe-replace\tc\t\"rm -rf x\"\t\"\"\n\"nth\" 2 depend-order c %.c\nnth \"2\" drop X \"$ b\"\nor all \"set\" \"X\" a\nall drop X ;\nend\n", Ok (on_line 1 (Apply (RemoveLines (OfAssign (Some 1) (codes "F")))) ∷ on_line 2 (Apply (AddLine (BeforeRule (Some 2) (codes "c")) (NewRule (codes "$(f {)") Single []))) ∷ on_line 3 (Apply (ChangeValue (One (Some 2)) (codes "X") (edits.Add (codes "b")))) ∷ Chain (edit_on 4 (ChangeValue (One (Some 1)) (codes "F") (edits.Append (codes "-O2")))) (edit_on 6 (ChangeValue (One None) (codes "F") (edits.Remove (codes "a")))) ((edit_on 8 (RemoveLines (OfRecipe (Some 2) (codes "c") (ByText (codes "a"))))) ∷ (edit_on 10 (SetRecipe (Some 2) (codes "c") (ByText (codes "rm -rf x")) [])) ∷ []) ∷ on_line 11 (Apply (ChangePrereqs (Some 2) (codes "c") (AddPrereq true (codes "%.c")))) ∷ Chain (edit_on 12 (ChangeValue (One (Some 2)) (codes "X") (edits.Remove (codes "$ b")))) (edit_on 13 (ChangeValue Every (codes "X") (edits.Set (codes "a")))) [] ∷ on_line 14 (Apply (ChangeValue Every (codes "X") (edits.Remove (codes ";")))) ∷ on_line 15 End ∷ [])) ∷  -- alternatives-325
    (codes "nth \"4294967295\" drop \"\\\\#x\" \"$(t -g)\"\r\nset F \"$ b\"\r\nor drop F \"-g\"\r\n \"or\" all drop F \\\\a\r\nor all set Y! \"\\\\#\"\r\n", Ok (on_line 1 (Apply (ChangeValue (One (Some 4294967295)) (codes "\\#x") (edits.Remove (codes "$(t -g)")))) ∷ Chain (edit_on 2 (ChangeValue (One None) (codes "F") (edits.Set (codes "$ b")))) (edit_on 3 (ChangeValue (One None) (codes "F") (edits.Remove (codes "-g")))) ((edit_on 4 (ChangeValue Every (codes "F") (edits.Remove (codes "\\\\a")))) ∷ (edit_on 5 (ChangeValue Every (codes "Y!") (edits.Set (codes "\\#")))) ∷ []) ∷ [])) ∷  -- alternatives-326
    (codes "set \"a.b\" \"-O2 b\"\r\nredo\r\n nth\t0\tunset\toverride\r\nrecipe-insert d 1 \"rm -rf x\"\r\nrecipe-remove c \"rm -rf x\"\r\nnth  1  recipe-insert  \"c\"  \"2\"  true\r\n\"nth\" 4294967295 \"set\" F \"\"\r\n\"unset\" F\r\nbegin\r\ntry all drop F -g\r\n", Ok (on_line 1 (Apply (ChangeValue (One None) (codes "a.b") (edits.Set (codes "-O2 b")))) ∷ on_line 2 Redo ∷ on_line 3 (Apply (RemoveLines (OfAssign (Some 0) (codes "override")))) ∷ on_line 4 (Apply (AddRecipe None (codes "d") (At 1) (codes "rm -rf x"))) ∷ on_line 5 (Apply (RemoveLines (OfRecipe None (codes "c") (ByText (codes "rm -rf x"))))) ∷ on_line 6 (Apply (AddRecipe (Some 1) (codes "c") (At 2) (codes "true"))) ∷ on_line 7 (Apply (ChangeValue (One (Some 4294967295)) (codes "F") (edits.Set []))) ∷ on_line 8 (Apply (RemoveLines (OfAssign None (codes "F")))) ∷ on_line 9 Begin ∷ tried_on 10 (ChangeValue Every (codes "F") (edits.Remove (codes "-g"))) ∷ [])) ∷  -- alternatives-327
    (codes "begin\nnth 4294967295 append a.b \"${c} -O2\"\n \nor nth \"1\" unset \"F\"\n\"try\" all add \"F\" \";\"\n\"try\"\t\"all\"\tdrop\tF\t\"$(a\tb)\"\nunrule  c", Ok (on_line 1 Begin ∷ Chain (edit_on 2 (ChangeValue (One (Some 4294967295)) (codes "a.b") (edits.Append (codes "${c} -O2")))) (edit_on 4 (RemoveLines (OfAssign (Some 1) (codes "F")))) [] ∷ tried_on 5 (ChangeValue Every (codes "F") (edits.Add (codes ";"))) ∷ tried_on 6 (ChangeValue Every (codes "F") (edits.Remove (codes "$(a\tb)"))) ∷ on_line 7 (Apply (RemoveLines (OfRule None (codes "c")))) ∷ [])) ∷  -- alternatives-328
    []

answers_7 : map (λ row. read_script row.0) rows_7 ≡ map (λ row. row.1) rows_7
unfolding line_len lines_from
answers_7 = refl

abbrev rows_8 : List (List ℕ × Result (List Step) ℕ)
rows_8 =
    (codes "recipe-insert include 1 \" a\"\n\"undepend\"\tinclude\t\"$(p #)\"\nnth 4294967295 unset F\n \n\"or\" recipe-replace include >a \"\"\ntry append F \"a$ b\"\nrecipe-insert include 002 \"ifdef Q\"\nredo\nnth 1 unset override\nor nth 2 unset X\n\nor all append .RECIPEPREFIX \"\"\n\"or\" recipe-remove \"include\" \"say \\\"q\\\"\"\n recipe-del include 4294967295\nrecipe-insert include 1 \" a\"\n\"rule\" bottom \"\" : \"\"\n\"or\" recipe-replace \"include\" true \">a\"\n", Ok (on_line 1 (Apply (AddRecipe None (codes "include") (At 1) (codes " a"))) ∷ on_line 2 (Apply (ChangePrereqs None (codes "include") (RemovePrereq (codes "$(p #)")))) ∷ Chain (edit_on 3 (RemoveLines (OfAssign (Some 4294967295) (codes "F")))) (edit_on 5 (SetRecipe None (codes "include") (ByText (codes ">a")) [])) [] ∷ tried_on 6 (ChangeValue (One None) (codes "F") (edits.Append (codes "a$ b"))) ∷ on_line 7 (Apply (AddRecipe None (codes "include") (At 2) (codes "ifdef Q"))) ∷ on_line 8 Redo ∷ Chain (edit_on 9 (RemoveLines (OfAssign (Some 1) (codes "override")))) (edit_on 10 (RemoveLines (OfAssign (Some 2) (codes "X")))) ((edit_on 12 (ChangeValue Every (codes ".RECIPEPREFIX") (edits.Append []))) ∷ (edit_on 13 (RemoveLines (OfRecipe None (codes "include") (ByText (codes "say \"q\""))))) ∷ []) ∷ on_line 14 (Apply (RemoveLines (OfRecipe None (codes "include") (ByNumber 4294967295)))) ∷ on_line 15 (Apply (AddRecipe None (codes "include") (At 1) (codes " a"))) ∷ Chain (edit_on 16 (AddLine Bottom (NewRule [] Single []))) (edit_on 17 (SetRecipe None (codes "include") (ByText (codes "true")) (codes ">a"))) [] ∷ [])) ∷  -- alternatives-329
    (codes "add \"F\" \"x=1\"\ndrop X \"b\"\nend\ndrop X ${c}\ntry \"all\" drop X \"$(a b)\"\ndrop X a:b\nrecipe-insert d 1 \"\ttrue\"\n \n\"or\" nth 0 drop X $\\\nnth 0 recipe-insert c 001 \"rm -rf x\"\n\"try\" all \"set\" X ;\n\"add\" X $\\x", Ok (on_line 1 (Apply (ChangeValue (One None) (codes "F") (edits.Add (codes "x=1")))) ∷ on_line 2 (Apply (ChangeValue (One None) (codes "X") (edits.Remove (codes "b")))) ∷ on_line 3 End ∷ on_line 4 (Apply (ChangeValue (One None) (codes "X") (edits.Remove (codes "${c}")))) ∷ tried_on 5 (ChangeValue Every (codes "X") (edits.Remove (codes "$(a b)"))) ∷ on_line 6 (Apply (ChangeValue (One None) (codes "X") (edits.Remove (codes "a:b")))) ∷ Chain (edit_on 7 (AddRecipe None (codes "d") (At 1) (codes "\ttrue"))) (edit_on 9 (ChangeValue (One (Some 0)) (codes "X") (edits.Remove (codes "$\\")))) [] ∷ on_line 10 (Apply (AddRecipe (Some 0) (codes "c") (At 1) (codes "rm -rf x"))) ∷ tried_on 11 (ChangeValue Every (codes "X") (edits.Set (codes ";"))) ∷ on_line 12 (Apply (ChangeValue (One None) (codes "X") (edits.Add (codes "$\\x")))) ∷ [])) ∷  -- alternatives-330
    (codes "set\tF\ta\\\\\nnth\t\"2\"\t\"recipe-remove\"\tc\t\"x \\\\ y\"\n\nor nth \"1\" recipe-remove \"c\" \"# n\"\n# c\nor unset Y\n \n\"or\" \"all\" append \"a.b\" \"a$ b\"\ndrop F -g\nredo\nnth 001 recipe-del c 002\nor add F $(u\ndrop\t\"F\"\t\"$(w a)\"\nnth  1  recipe-remove  c  b\nbegin\nset F \"b a\"\n", Ok (on_line 1 (Apply (ChangeValue (One None) (codes "F") (edits.Set (codes "a\\\\")))) ∷ Chain (edit_on 2 (RemoveLines (OfRecipe (Some 2) (codes "c") (ByText (codes "x \\ y"))))) (edit_on 4 (RemoveLines (OfRecipe (Some 1) (codes "c") (ByText (codes "# n"))))) ((edit_on 6 (RemoveLines (OfAssign None (codes "Y")))) ∷ (edit_on 8 (ChangeValue Every (codes "a.b") (edits.Append (codes "a$ b")))) ∷ []) ∷ on_line 9 (Apply (ChangeValue (One None) (codes "F") (edits.Remove (codes "-g")))) ∷ on_line 10 Redo ∷ Chain (edit_on 11 (RemoveLines (OfRecipe (Some 1) (codes "c") (ByNumber 2)))) (edit_on 12 (ChangeValue (One None) (codes "F") (edits.Add (codes "$(u")))) [] ∷ on_line 13 (Apply (ChangeValue (One None) (codes "F") (edits.Remove (codes "$(w a)")))) ∷ on_line 14 (Apply (RemoveLines (OfRecipe (Some 1) (codes "c") (ByText (codes "b"))))) ∷ on_line 15 Begin ∷ on_line 16 (Apply (ChangeValue (One None) (codes "F") (edits.Set (codes "b a")))) ∷ [])) ∷  -- alternatives-331
    (codes "try \"nth\" 002 drop F \"a:b\"\nrecipe-insert d 1 t\nor nth 2 drop F $\\x\n# c\nor \"all\" \"drop\" F \"-g\"\n# or\ntry \"all\" \"drop\" F -g\n", Ok (tried_on 1 (ChangeValue (One (Some 2)) (codes "F") (edits.Remove (codes "a:b"))) ∷ Chain (edit_on 2 (AddRecipe None (codes "d") (At 1) (codes "t"))) (edit_on 3 (ChangeValue (One (Some 2)) (codes "F") (edits.Remove (codes "$\\x")))) ((edit_on 5 (ChangeValue Every (codes "F") (edits.Remove (codes "-g")))) ∷ []) ∷ tried_on 7 (ChangeValue Every (codes "F") (edits.Remove (codes "-g"))) ∷ [])) ∷  -- alternatives-332
    (codes " assign \"before-rule\" \"c\" endef != \"$# a\"\r\ndrop endef a\r\nrecipe-insert c 1 t\r\nrecipe-insert c \"2\" \"rm -f x\"\r\ntry all set \"endef\" -g\r\nappend endef \"$$ -include2\"\r\ntry depend-order c %.o\r\ndepend-order c %.o\r\n\r\n\"or\"  drop  endef  $$\r\n", Ok (on_line 1 (Apply (AddLine (BeforeRule None (codes "c")) (NewAssign (codes "endef") Shell (codes "$# a")))) ∷ on_line 2 (Apply (ChangeValue (One None) (codes "endef") (edits.Remove (codes "a")))) ∷ on_line 3 (Apply (AddRecipe None (codes "c") (At 1) (codes "t"))) ∷ on_line 4 (Apply (AddRecipe None (codes "c") (At 2) (codes "rm -f x"))) ∷ tried_on 5 (ChangeValue Every (codes "endef") (edits.Set (codes "-g"))) ∷ on_line 6 (Apply (ChangeValue (One None) (codes "endef") (edits.Append (codes "$$ -include2")))) ∷ tried_on 7 (ChangePrereqs None (codes "c") (AddPrereq true (codes "%.o"))) ∷ Chain (edit_on 8 (ChangePrereqs None (codes "c") (AddPrereq true (codes "%.o")))) (edit_on 10 (ChangeValue (One None) (codes "endef") (edits.Remove (codes "$$")))) [] ∷ [])) ∷  -- alternatives-333
    (codes " recipe-remove d \"rm -rf x\"\nrecipe-replace d \"# n\" \"say \\\"q\\\"\"\ndrop\tF\tb\n\"or\" add \\#x \"$(a b)\"\nor\tnth\t\"2\"\t\"recipe-replace\"\tc\ta\tt\nor nth 002 recipe-insert c 1 b\nrecipe-replace d \"say \\\"q\\\"\" \"rm -rf x\"\ntry nth \"2\" \"recipe-insert\" c 1 \"rm -rf x\"\nnth \"2\" recipe-insert c 4 \"# n\"\n\"recipe-insert\" d 4 \"say \\\"q\\\"\"", Ok (on_line 1 (Apply (RemoveLines (OfRecipe None (codes "d") (ByText (codes "rm -rf x"))))) ∷ on_line 2 (Apply (SetRecipe None (codes "d") (ByText (codes "# n")) (codes "say \"q\""))) ∷ Chain (edit_on 3 (ChangeValue (One None) (codes "F") (edits.Remove (codes "b")))) (edit_on 4 (ChangeValue (One None) (codes "\\#x") (edits.Add (codes "$(a b)")))) ((edit_on 5 (SetRecipe (Some 2) (codes "c") (ByText (codes "a")) (codes "t"))) ∷ (edit_on 6 (AddRecipe (Some 2) (codes "c") (At 1) (codes "b"))) ∷ []) ∷ on_line 7 (Apply (SetRecipe None (codes "d") (ByText (codes "say \"q\"")) (codes "rm -rf x"))) ∷ tried_on 8 (AddRecipe (Some 2) (codes "c") (At 1) (codes "rm -rf x")) ∷ on_line 9 (Apply (AddRecipe (Some 2) (codes "c") (At 4) (codes "# n"))) ∷ on_line 10 (Apply (AddRecipe None (codes "d") (At 4) (codes "say \"q\""))) ∷ [])) ∷  -- alternatives-334
    (codes "unset X\n\"or\" append F \"\"\nnth \"1\" drop F \"-g\"\n\nor \"drop\" \"F\" -O2\n \nor \"set\" \"F\" \"a:b x=1\"\ndrop F a:b\n \t\nundo\n", Ok (Chain (edit_on 1 (RemoveLines (OfAssign None (codes "X")))) (edit_on 2 (ChangeValue (One None) (codes "F") (edits.Append []))) [] ∷ Chain (edit_on 3 (ChangeValue (One (Some 1)) (codes "F") (edits.Remove (codes "-g")))) (edit_on 5 (ChangeValue (One None) (codes "F") (edits.Remove (codes "-O2")))) ((edit_on 7 (ChangeValue (One None) (codes "F") (edits.Set (codes "a:b x=1")))) ∷ []) ∷ on_line 8 (Apply (ChangeValue (One None) (codes "F") (edits.Remove (codes "a:b")))) ∷ on_line 10 Undo ∷ [])) ∷  -- alternatives-335
    (codes " all drop \"F\" -g\ntry nth 1 \"append\" \"override\" b\nundo\nnth 1 drop F \"-O2\"\ntry  \"nth\"  1  add  F  -g\n\"set\" override \"a  |\"\n\"or\" add F a\n# c\nor drop F =\nredo\nall  drop  F  =\n", Ok (on_line 1 (Apply (ChangeValue Every (codes "F") (edits.Remove (codes "-g")))) ∷ tried_on 2 (ChangeValue (One (Some 1)) (codes "override") (edits.Append (codes "b"))) ∷ on_line 3 Undo ∷ on_line 4 (Apply (ChangeValue (One (Some 1)) (codes "F") (edits.Remove (codes "-O2")))) ∷ tried_on 5 (ChangeValue (One (Some 1)) (codes "F") (edits.Add (codes "-g"))) ∷ Chain (edit_on 6 (ChangeValue (One None) (codes "override") (edits.Set (codes "a  |")))) (edit_on 7 (ChangeValue (One None) (codes "F") (edits.Add (codes "a")))) ((edit_on 9 (ChangeValue (One None) (codes "F") (edits.Remove (codes "=")))) ∷ []) ∷ on_line 10 Redo ∷ on_line 11 (Apply (ChangeValue Every (codes "F") (edits.Remove (codes "=")))) ∷ [])) ∷  -- alternatives-336
    (codes "nth 0 append \".RECIPEPREFIX\" b\ndrop F ;\nundo\nundo", Ok (on_line 1 (Apply (ChangeValue (One (Some 0)) (codes ".RECIPEPREFIX") (edits.Append (codes "b")))) ∷ on_line 2 (Apply (ChangeValue (One None) (codes "F") (edits.Remove (codes ";")))) ∷ on_line 3 Undo ∷ on_line 4 Undo ∷ [])) ∷  -- alternatives-337
    (codes "try drop X |\nnth 4294967295 unset X\nor add X a\n \nor drop X \"$(a\tb)\"", Ok (tried_on 1 (ChangeValue (One None) (codes "X") (edits.Remove (codes "|"))) ∷ Chain (edit_on 2 (RemoveLines (OfAssign (Some 4294967295) (codes "X")))) (edit_on 3 (ChangeValue (One None) (codes "X") (edits.Add (codes "a")))) ((edit_on 5 (ChangeValue (One None) (codes "X") (edits.Remove (codes "$(a\tb)")))) ∷ []) ∷ [])) ∷  -- alternatives-338
    (codes "try  recipe-insert  c  \"1\"  \"say \\\"q\\\"\"\ntry \"all\" add F a\ntry all drop F -g\nall \"append\" F a\n\"add\" F \"$(t -g)\"\ntry\tadd\tF\t-g\n", Ok (tried_on 1 (AddRecipe None (codes "c") (At 1) (codes "say \"q\"")) ∷ tried_on 2 (ChangeValue Every (codes "F") (edits.Add (codes "a"))) ∷ tried_on 3 (ChangeValue Every (codes "F") (edits.Remove (codes "-g"))) ∷ on_line 4 (Apply (ChangeValue Every (codes "F") (edits.Append (codes "a")))) ∷ on_line 5 (Apply (ChangeValue (One None) (codes "F") (edits.Add (codes "$(t -g)")))) ∷ tried_on 6 (ChangeValue (One None) (codes "F") (edits.Add (codes "-g"))) ∷ [])) ∷  -- alternatives-339
    (codes "try  recipe-insert  c  5  true\r\nnth 002 append override a\r\n \"drop\" X \"$(p #)\"\r\n drop X |\r\n# c\r\nor unset t1\r\nall set \"F\" -g\r\nrecipe \"%.o\" \"\"\r\ntry all add t1 \"a\"\r\nend\r\ndrop\tX\t\"a\\\\ b\"", Ok (tried_on 1 (AddRecipe None (codes "c") (At 5) (codes "true")) ∷ on_line 2 (Apply (ChangeValue (One (Some 2)) (codes "override") (edits.Append (codes "a")))) ∷ on_line 3 (Apply (ChangeValue (One None) (codes "X") (edits.Remove (codes "$(p #)")))) ∷ Chain (edit_on 4 (ChangeValue (One None) (codes "X") (edits.Remove (codes "|")))) (edit_on 6 (RemoveLines (OfAssign None (codes "t1")))) [] ∷ on_line 7 (Apply (ChangeValue Every (codes "F") (edits.Set (codes "-g")))) ∷ on_line 8 (Apply (AddRecipe None (codes "%.o") Last [])) ∷ tried_on 9 (ChangeValue Every (codes "t1") (edits.Add (codes "a"))) ∷ on_line 10 End ∷ on_line 11 (Apply (ChangeValue (One None) (codes "X") (edits.Remove (codes "a\\ b")))) ∷ [])) ∷  -- alternatives-340
    (codes "drop F \"$(w a)\"\r\nrule \"bottom\" b : \"\"\r\ndrop \"F\" b\r\ntry set F \"%.c\"\r\ntry  all  set  F  \"$(t -g)\"\r\nappend F a\r\nrecipe-insert \"c\" 001 \"rm -rf x\"\r\n", Ok (on_line 1 (Apply (ChangeValue (One None) (codes "F") (edits.Remove (codes "$(w a)")))) ∷ on_line 2 (Apply (AddLine Bottom (NewRule (codes "b") Single []))) ∷ on_line 3 (Apply (ChangeValue (One None) (codes "F") (edits.Remove (codes "b")))) ∷ tried_on 4 (ChangeValue (One None) (codes "F") (edits.Set (codes "%.c"))) ∷ tried_on 5 (ChangeValue Every (codes "F") (edits.Set (codes "$(t -g)"))) ∷ on_line 6 (Apply (ChangeValue (One None) (codes "F") (edits.Append (codes "a")))) ∷ on_line 7 (Apply (AddRecipe None (codes "c") (At 1) (codes "rm -rf x"))) ∷ [])) ∷  -- alternatives-341
    (codes "try recipe-remove \"c\" true\r\ndrop F \"${c}\"\r\nnth 0 \"drop\" \"F\" $\\x\r\ndrop  F  -g\r\n add + \"$ b\"\r\nrecipe-del  d  1\r\ntry nth 1 set F 2\r\nunset\tF\r\n\r\n\"or\" nth 2 add \"F\" ;\r\n\r\nor recipe-set d 2 \"q:=1\"\r\nend\r\n\"nth\" 4294967295 recipe-insert c 1 \"true\"\r\n", Ok (tried_on 1 (RemoveLines (OfRecipe None (codes "c") (ByText (codes "true")))) ∷ on_line 2 (Apply (ChangeValue (One None) (codes "F") (edits.Remove (codes "${c}")))) ∷ on_line 3 (Apply (ChangeValue (One (Some 0)) (codes "F") (edits.Remove (codes "$\\x")))) ∷ on_line 4 (Apply (ChangeValue (One None) (codes "F") (edits.Remove (codes "-g")))) ∷ on_line 5 (Apply (ChangeValue (One None) (codes "+") (edits.Add (codes "$ b")))) ∷ on_line 6 (Apply (RemoveLines (OfRecipe None (codes "d") (ByNumber 1)))) ∷ tried_on 7 (ChangeValue (One (Some 1)) (codes "F") (edits.Set (codes "2"))) ∷ Chain (edit_on 8 (RemoveLines (OfAssign None (codes "F")))) (edit_on 10 (ChangeValue (One (Some 2)) (codes "F") (edits.Add (codes ";")))) ((edit_on 12 (SetRecipe None (codes "d") (ByNumber 2) (codes "q:=1"))) ∷ []) ∷ on_line 13 End ∷ on_line 14 (Apply (AddRecipe (Some 4294967295) (codes "c") (At 1) (codes "true"))) ∷ [])) ∷  -- alternatives-342
    (codes "try \"unset\" F\nall append a.b -g\nnth 1 drop a.b -g\n", Ok (tried_on 1 (RemoveLines (OfAssign None (codes "F"))) ∷ on_line 2 (Apply (ChangeValue Every (codes "a.b") (edits.Append (codes "-g")))) ∷ on_line 3 (Apply (ChangeValue (One (Some 1)) (codes "a.b") (edits.Remove (codes "-g")))) ∷ [])) ∷  -- alternatives-343
    (codes " \"all\"\t\"add\"\tF\ta\r\nnth 2 \"drop\" F \"$(t -g)\"\r\n", Ok (on_line 1 (Apply (ChangeValue Every (codes "F") (edits.Add (codes "a")))) ∷ on_line 2 (Apply (ChangeValue (One (Some 2)) (codes "F") (edits.Remove (codes "$(t -g)")))) ∷ [])) ∷  -- alternatives-344
    (codes "try all append F \"\\\\\\\\a ;\"\ntry nth 002 \"append\" F \"a\\\\ b\"\n add F x=1\nbegin\nappend override b\nor\tadd\tF\t\"$(w a)\"\n\"append\" F %.o\nunset F\ntry all drop F -g\n", Ok (tried_on 1 (ChangeValue Every (codes "F") (edits.Append (codes "\\\\a ;"))) ∷ tried_on 2 (ChangeValue (One (Some 2)) (codes "F") (edits.Append (codes "a\\ b"))) ∷ on_line 3 (Apply (ChangeValue (One None) (codes "F") (edits.Add (codes "x=1")))) ∷ on_line 4 Begin ∷ Chain (edit_on 5 (ChangeValue (One None) (codes "override") (edits.Append (codes "b")))) (edit_on 6 (ChangeValue (One None) (codes "F") (edits.Add (codes "$(w a)")))) [] ∷ on_line 7 (Apply (ChangeValue (One None) (codes "F") (edits.Append (codes "%.o")))) ∷ on_line 8 (Apply (RemoveLines (OfAssign None (codes "F")))) ∷ tried_on 9 (ChangeValue Every (codes "F") (edits.Remove (codes "-g"))) ∷ [])) ∷  -- alternatives-345
    (codes "\"all\" drop X \"a\\\\ b\"\ndrop a\\= \"$ b\"\nunset a.b\nadd override \\\\a", Ok (on_line 1 (Apply (ChangeValue Every (codes "X") (edits.Remove (codes "a\\ b")))) ∷ on_line 2 (Apply (ChangeValue (One None) (codes "a\\=") (edits.Remove (codes "$ b")))) ∷ on_line 3 (Apply (RemoveLines (OfAssign None (codes "a.b")))) ∷ on_line 4 (Apply (ChangeValue (One None) (codes "override") (edits.Add (codes "\\\\a")))) ∷ [])) ∷  -- alternatives-346
    (codes "\"drop\" F \"-g\"\r\n", Ok (on_line 1 (Apply (ChangeValue (One None) (codes "F") (edits.Remove (codes "-g")))) ∷ [])) ∷  -- alternatives-347
    (codes "undo\n \"all\" append \"X\" a\ndrop  X  \"-O2\"\nor \"nth\" 4294967295 unset F\n# c\nor recipe-replace \"d\" true true\n# c\nor nth 001 append a.b \"$(s (b) a) $x\"\ncancel\n", Ok (on_line 1 Undo ∷ on_line 2 (Apply (ChangeValue Every (codes "X") (edits.Append (codes "a")))) ∷ Chain (edit_on 3 (ChangeValue (One None) (codes "X") (edits.Remove (codes "-O2")))) (edit_on 4 (RemoveLines (OfAssign (Some 4294967295) (codes "F")))) ((edit_on 6 (SetRecipe None (codes "d") (ByText (codes "true")) (codes "true"))) ∷ (edit_on 8 (ChangeValue (One (Some 1)) (codes "a.b") (edits.Append (codes "$(s (b) a) $x")))) ∷ []) ∷ on_line 9 Cancel ∷ [])) ∷  -- alternatives-348
    (codes "nth  4294967295  drop  a.b  ;\nor nth \"3\" add \"F\" \"${c}\"\n", Ok (Chain (edit_on 1 (ChangeValue (One (Some 4294967295)) (codes "a.b") (edits.Remove (codes ";")))) (edit_on 2 (ChangeValue (One (Some 3)) (codes "F") (edits.Add (codes "${c}")))) [] ∷ [])) ∷  -- alternatives-349
    (codes "\"try\" \"all\" \"add\" F -g\nnth 001 recipe-replace %.o \"\ttrue\" \"a # b\"\nnth 4294967295 recipe-replace c \" a\" \"a # b\"\n", Ok (tried_on 1 (ChangeValue Every (codes "F") (edits.Add (codes "-g"))) ∷ on_line 2 (Apply (SetRecipe (Some 1) (codes "%.o") (ByText (codes "\ttrue")) (codes "a # b"))) ∷ on_line 3 (Apply (SetRecipe (Some 4294967295) (codes "c") (ByText (codes " a")) (codes "a # b"))) ∷ [])) ∷  -- alternatives-350
    (codes "try drop X a\ntry nth 1 recipe-remove d \"x \\\\ y\"\nunset \"F\"\nor unset F\nor all drop override ${c}", Ok (tried_on 1 (ChangeValue (One None) (codes "X") (edits.Remove (codes "a"))) ∷ tried_on 2 (RemoveLines (OfRecipe (Some 1) (codes "d") (ByText (codes "x \\ y")))) ∷ Chain (edit_on 3 (RemoveLines (OfAssign None (codes "F")))) (edit_on 4 (RemoveLines (OfAssign None (codes "F")))) ((edit_on 5 (ChangeValue Every (codes "override") (edits.Remove (codes "${c}")))) ∷ []) ∷ [])) ∷  -- alternatives-351
    (codes "\"set\" F \"; \\\\\\\\a\"\n drop\tX\tg\ntry \"nth\" 2 recipe-insert \"c\" 1 \" a\"\ntry  nth  002  drop  X  \"b\"\ntry  unrule  x.o\ntry all set X \"\"\n", Ok (on_line 1 (Apply (ChangeValue (One None) (codes "F") (edits.Set (codes "; \\\\a")))) ∷ on_line 2 (Apply (ChangeValue (One None) (codes "X") (edits.Remove (codes "g")))) ∷ tried_on 3 (AddRecipe (Some 2) (codes "c") (At 1) (codes " a")) ∷ tried_on 4 (ChangeValue (One (Some 2)) (codes "X") (edits.Remove (codes "b"))) ∷ tried_on 5 (RemoveLines (OfRule None (codes "x.o"))) ∷ tried_on 6 (ChangeValue Every (codes "X") (edits.Set [])) ∷ [])) ∷  -- alternatives-352
    (codes "begin\n drop F -g\n\"append\" F 1\nor drop + =\nadd \"F\" a\nnth 4294967295 \"unset\" \"F\"\n\"or\" nth 4294967295 depend-order $(s\\) -include2\n \nor  all  \"drop\"  F  \\#\ntry all drop F ${c}\nadd F $\\x\n", Ok (on_line 1 Begin ∷ on_line 2 (Apply (ChangeValue (One None) (codes "F") (edits.Remove (codes "-g")))) ∷ Chain (edit_on 3 (ChangeValue (One None) (codes "F") (edits.Append (codes "1")))) (edit_on 4 (ChangeValue (One None) (codes "+") (edits.Remove (codes "=")))) [] ∷ on_line 5 (Apply (ChangeValue (One None) (codes "F") (edits.Add (codes "a")))) ∷ Chain (edit_on 6 (RemoveLines (OfAssign (Some 4294967295) (codes "F")))) (edit_on 7 (ChangePrereqs (Some 4294967295) (codes "$(s\\)") (AddPrereq true (codes "-include2")))) ((edit_on 9 (ChangeValue Every (codes "F") (edits.Remove (codes "\\#")))) ∷ []) ∷ tried_on 10 (ChangeValue Every (codes "F") (edits.Remove (codes "${c}"))) ∷ on_line 11 (Apply (ChangeValue (One None) (codes "F") (edits.Add (codes "$\\x")))) ∷ [])) ∷  -- alternatives-353
    (codes "try nth 0 \"recipe-replace\" d \"a # b\" >a\nnth 1 recipe d \"\tb\"\nadd X \"-O2\"\nor add \"X\" -g\nor nth \"0\" drop X b\nor rule before-rule d foo :: \"b c\"\ntry drop X -O2\n\"nth\"  1  unset  X\n", Ok (tried_on 1 (SetRecipe (Some 0) (codes "d") (ByText (codes "a # b")) (codes ">a")) ∷ on_line 2 (Apply (AddRecipe (Some 1) (codes "d") Last (codes "\tb"))) ∷ Chain (edit_on 3 (ChangeValue (One None) (codes "X") (edits.Add (codes "-O2")))) (edit_on 4 (ChangeValue (One None) (codes "X") (edits.Add (codes "-g")))) ((edit_on 5 (ChangeValue (One (Some 0)) (codes "X") (edits.Remove (codes "b")))) ∷ (edit_on 6 (AddLine (BeforeRule None (codes "d")) (NewRule (codes "foo") Double (codes "b c")))) ∷ []) ∷ tried_on 7 (ChangeValue (One None) (codes "X") (edits.Remove (codes "-O2"))) ∷ on_line 8 (Apply (RemoveLines (OfAssign (Some 1) (codes "X")))) ∷ [])) ∷  -- alternatives-354
    (codes "try  nth  0  recipe-insert  c  1  \"rm -f x\"\ntry \"nth\" 000 \"depend\" .PHONY \"$(p #)\"\nnth 1 \"recipe-remove\" d true\n\"nth\"  \"001\"  \"recipe-replace\"  d  \"\ttrue\"  \"x \\\\ y\"\n \n or nth 001 recipe-remove \"d\" a\n# c\nor nth \"000\" drop override \"a$ b\"\n\n\"or\" drop F \"=\"\ncancel\nadd override $\\x\n \nor\tnth\t1\tdrop\t\"X\"\tb\n\nor drop F \"$(a b)\"\nundo\n", Ok (tried_on 1 (AddRecipe (Some 0) (codes "c") (At 1) (codes "rm -f x")) ∷ tried_on 2 (ChangePrereqs (Some 0) (codes ".PHONY") (AddPrereq false (codes "$(p #)"))) ∷ on_line 3 (Apply (RemoveLines (OfRecipe (Some 1) (codes "d") (ByText (codes "true"))))) ∷ Chain (edit_on 4 (SetRecipe (Some 1) (codes "d") (ByText (codes "\ttrue")) (codes "x \\ y"))) (edit_on 6 (RemoveLines (OfRecipe (Some 1) (codes "d") (ByText (codes "a"))))) ((edit_on 8 (ChangeValue (One (Some 0)) (codes "override") (edits.Remove (codes "a$ b")))) ∷ (edit_on 10 (ChangeValue (One None) (codes "F") (edits.Remove (codes "=")))) ∷ []) ∷ on_line 11 Cancel ∷ Chain (edit_on 12 (ChangeValue (One None) (codes "override") (edits.Add (codes "$\\x")))) (edit_on 14 (ChangeValue (One (Some 1)) (codes "X") (edits.Remove (codes "b")))) ((edit_on 16 (ChangeValue (One None) (codes "F") (edits.Remove (codes "$(a b)")))) ∷ []) ∷ on_line 17 Undo ∷ [])) ∷  -- alternatives-355
    (codes "nth 0 set override \"%.c\"\nredo\n\"try\" set \"override\" \"\"\nend\nundo\ndrop override \"=\"\ndrop override $x\ntry  all  set  override  -O2\nundo\n", Ok (on_line 1 (Apply (ChangeValue (One (Some 0)) (codes "override") (edits.Set (codes "%.c")))) ∷ on_line 2 Redo ∷ tried_on 3 (ChangeValue (One None) (codes "override") (edits.Set [])) ∷ on_line 4 End ∷ on_line 5 Undo ∷ on_line 6 (Apply (ChangeValue (One None) (codes "override") (edits.Remove (codes "=")))) ∷ on_line 7 (Apply (ChangeValue (One None) (codes "override") (edits.Remove (codes "$x")))) ∷ tried_on 8 (ChangeValue Every (codes "override") (edits.Set (codes "-O2"))) ∷ on_line 9 Undo ∷ [])) ∷  -- alternatives-356
    (codes "\"recipe-remove\"  \"d\"  true\nnth 1 \"recipe-replace\" d \"t\" \"ifdef Q\"\nor all append F b\nrecipe-replace d \"ifdef Q\" a\\\\\nadd F \" a\"\nredo\n recipe-insert  d  \"1\"  \"\ttrue\"\nrecipe-remove d \"\ttrue\"\n", Ok (on_line 1 (Apply (RemoveLines (OfRecipe None (codes "d") (ByText (codes "true"))))) ∷ Chain (edit_on 2 (SetRecipe (Some 1) (codes "d") (ByText (codes "t")) (codes "ifdef Q"))) (edit_on 3 (ChangeValue Every (codes "F") (edits.Append (codes "b")))) [] ∷ on_line 4 (Apply (SetRecipe None (codes "d") (ByText (codes "ifdef Q")) (codes "a\\\\"))) ∷ on_line 5 (Apply (ChangeValue (One None) (codes "F") (edits.Add (codes " a")))) ∷ on_line 6 Redo ∷ on_line 7 (Apply (AddRecipe None (codes "d") (At 1) (codes "\ttrue"))) ∷ on_line 8 (Apply (RemoveLines (OfRecipe None (codes "d") (ByText (codes "\ttrue"))))) ∷ [])) ∷  -- alternatives-357
    (codes "undo\nnth 1 \"add\" F |\nall set F \"\"\n \"try\" add \"X\" $x\nnth 001 depend-order c b\nnth 001 drop F a:b\n# c\nor rename \"a\" t\n\nor nth 0 recipe-remove c \"rm -f x\"\n\"try\" \"nth\" 2 drop F -g\nall undepend c a\nredo\nadd \"F\" \"a$ b\"\n# c\nor \"nth\" \"2\" recipe x.o define\n", Err 12) ∷  -- alternatives-358
    (codes "\"unset\" override\r\nredo\r\nall add X |\r\n# c\r\nor nth \"1\" recipe-remove c \"# n\"\r\nend\r\n drop F ${c}\r\n", Ok (on_line 1 (Apply (RemoveLines (OfAssign None (codes "override")))) ∷ on_line 2 Redo ∷ Chain (edit_on 3 (ChangeValue Every (codes "X") (edits.Add (codes "|")))) (edit_on 5 (RemoveLines (OfRecipe (Some 1) (codes "c") (ByText (codes "# n"))))) [] ∷ on_line 6 End ∷ on_line 7 (Apply (ChangeValue (One None) (codes "F") (edits.Remove (codes "${c}")))) ∷ [])) ∷  -- alternatives-359
    (codes "append F b\nor \"drop\" override \"a\"\nall drop F \"b\"\ntry\tdrop\toverride\ta\nbegin", Ok (Chain (edit_on 1 (ChangeValue (One None) (codes "F") (edits.Append (codes "b")))) (edit_on 2 (ChangeValue (One None) (codes "override") (edits.Remove (codes "a")))) [] ∷ on_line 3 (Apply (ChangeValue Every (codes "F") (edits.Remove (codes "b")))) ∷ tried_on 4 (ChangeValue (One None) (codes "override") (edits.Remove (codes "a"))) ∷ on_line 5 Begin ∷ [])) ∷  -- alternatives-360
    (codes "nth\t1\tadd\t\"F\"\t${c}\r\nall all set F 1\r\nadd F \"-O2\"\r\n\"try\" \"recipe-insert\" c \"1\" true\r\ntry drop F \"$(w a)\"\r\nall drop F a:b\r\n", Err 2) ∷  -- alternatives-361
    (codes "all add F $\\x\n\"unset\"  F\n", Ok (on_line 1 (Apply (ChangeValue Every (codes "F") (edits.Add (codes "$\\x")))) ∷ on_line 2 (Apply (RemoveLines (OfAssign None (codes "F")))) ∷ [])) ∷  -- alternatives-362
    (codes "end\nall\tadd\tF\t\" a\"\nredo\n", Ok (on_line 1 End ∷ on_line 2 (Apply (ChangeValue Every (codes "F") (edits.Add (codes " a")))) ∷ on_line 3 Redo ∷ [])) ∷  -- alternatives-363
    (codes "assign before-var F \"ifdef\" ::= $#\ncancel\nadd ifdef ${c}\nnth \"001\" \"drop\" \"F\" \"a\"\n all add \"F\" x=1\n \n\"or\"  \"nth\"  1  add  \"F\"  x=1\n \"or\" \"nth\" 1 add F |\n or drop \"ifdef\" ${c}\nbegin", Ok (on_line 1 (Apply (AddLine (BeforeVar None (codes "F")) (NewAssign (codes "ifdef") PosixSimple (codes "$#")))) ∷ on_line 2 Cancel ∷ on_line 3 (Apply (ChangeValue (One None) (codes "ifdef") (edits.Add (codes "${c}")))) ∷ on_line 4 (Apply (ChangeValue (One (Some 1)) (codes "F") (edits.Remove (codes "a")))) ∷ Chain (edit_on 5 (ChangeValue Every (codes "F") (edits.Add (codes "x=1")))) (edit_on 7 (ChangeValue (One (Some 1)) (codes "F") (edits.Add (codes "x=1")))) ((edit_on 8 (ChangeValue (One (Some 1)) (codes "F") (edits.Add (codes "|")))) ∷ (edit_on 9 (ChangeValue (One None) (codes "ifdef") (edits.Remove (codes "${c}")))) ∷ []) ∷ on_line 10 Begin ∷ [])) ∷  -- alternatives-364
    (codes "try all append F \"a\"\nnth 002 recipe-remove d a\nend\nnth \"0\" recipe-insert c 1 \"ifdef Q\"", Ok (tried_on 1 (ChangeValue Every (codes "F") (edits.Append (codes "a"))) ∷ on_line 2 (Apply (RemoveLines (OfRecipe (Some 2) (codes "d") (ByText (codes "a"))))) ∷ on_line 3 End ∷ on_line 4 (Apply (AddRecipe (Some 0) (codes "c") (At 1) (codes "ifdef Q"))) ∷ [])) ∷  -- alternatives-365
    (codes "append F \"b $(q:;=|)\"\ntry\t\"all\"\tadd\tF\tb\ntry nth 0 set F \"\"\n\"try\" \"all\" \"add\" F -g\ntry nth \"0\" add F \"$(a b)\"\n", Ok (on_line 1 (Apply (ChangeValue (One None) (codes "F") (edits.Append (codes "b $(q:;=|)")))) ∷ tried_on 2 (ChangeValue Every (codes "F") (edits.Add (codes "b"))) ∷ tried_on 3 (ChangeValue (One (Some 0)) (codes "F") (edits.Set [])) ∷ tried_on 4 (ChangeValue Every (codes "F") (edits.Add (codes "-g"))) ∷ tried_on 5 (ChangeValue (One (Some 0)) (codes "F") (edits.Add (codes "$(a b)"))) ∷ [])) ∷  -- alternatives-366
    (codes "all drop \"X$:\" b\n\nor add F b\nnth 1 drop F -g\ntry set F \"\"\nadd F \\\\a\nadd F x=1\nundo\n", Ok (Chain (edit_on 1 (ChangeValue Every (codes "X$:") (edits.Remove (codes "b")))) (edit_on 3 (ChangeValue (One None) (codes "F") (edits.Add (codes "b")))) [] ∷ on_line 4 (Apply (ChangeValue (One (Some 1)) (codes "F") (edits.Remove (codes "-g")))) ∷ tried_on 5 (ChangeValue (One None) (codes "F") (edits.Set [])) ∷ on_line 6 (Apply (ChangeValue (One None) (codes "F") (edits.Add (codes "\\\\a")))) ∷ on_line 7 (Apply (ChangeValue (One None) (codes "F") (edits.Add (codes "x=1")))) ∷ on_line 8 Undo ∷ [])) ∷  -- alternatives-367
    (codes "nth 001 recipe-remove \"c\" \"rm -f x\"\nrecipe-replace  \"c\"  true  \"ifdef Q\"\n try \"recipe-insert\" \"c\" 4 \"# n\"\nrecipe-insert c 1 a\\\\\ntry nth 0 recipe-insert \"c\" 001 a\0\nrecipe-remove \"c\" >a\nor  \"all\"  set  \"F\"  ;\n \nor set \"X\" \"$(a b) $(p #) $(s\\\\)\"\n# c\n\"or\" nth 1 \"set\" F \"\"\n", Ok (on_line 1 (Apply (RemoveLines (OfRecipe (Some 1) (codes "c") (ByText (codes "rm -f x"))))) ∷ on_line 2 (Apply (SetRecipe None (codes "c") (ByText (codes "true")) (codes "ifdef Q"))) ∷ tried_on 3 (AddRecipe None (codes "c") (At 4) (codes "# n")) ∷ on_line 4 (Apply (AddRecipe None (codes "c") (At 1) (codes "a\\\\"))) ∷ tried_on 5 (AddRecipe (Some 0) (codes "c") (At 1) (codes "a\0")) ∷ Chain (edit_on 6 (RemoveLines (OfRecipe None (codes "c") (ByText (codes ">a"))))) (edit_on 7 (ChangeValue Every (codes "F") (edits.Set (codes ";")))) ((edit_on 9 (ChangeValue (One None) (codes "X") (edits.Set (codes "$(a b) $(p #) $(s\\)")))) ∷ (edit_on 11 (ChangeValue (One (Some 1)) (codes "F") (edits.Set []))) ∷ []) ∷ [])) ∷  -- alternatives-368
    (codes "undo\nall append a.b \"-g\"\n\"add\"\ta.b\t\"-g\"\n\n\"or\" nth 1 drop $(X) \"$(a b)\"\nnth \"1\" add \"a.b\" \"a\"\nundo\ndrop a.b a\nundo\n \t\n add \"a.b\" \\#\nrule \"after-var\" a.b -include2 :: \"$(f {) a\"\n", Ok (on_line 1 Undo ∷ on_line 2 (Apply (ChangeValue Every (codes "a.b") (edits.Append (codes "-g")))) ∷ Chain (edit_on 3 (ChangeValue (One None) (codes "a.b") (edits.Add (codes "-g")))) (edit_on 5 (ChangeValue (One (Some 1)) (codes "$(X)") (edits.Remove (codes "$(a b)")))) [] ∷ on_line 6 (Apply (ChangeValue (One (Some 1)) (codes "a.b") (edits.Add (codes "a")))) ∷ on_line 7 Undo ∷ on_line 8 (Apply (ChangeValue (One None) (codes "a.b") (edits.Remove (codes "a")))) ∷ on_line 9 Undo ∷ on_line 11 (Apply (ChangeValue (One None) (codes "a.b") (edits.Add (codes "\\#")))) ∷ on_line 12 (Apply (AddLine (AfterVar None (codes "a.b")) (NewRule (codes "-include2") Double (codes "$(f {) a")))) ∷ [])) ∷  -- alternatives-369
    (codes "nth 1 unset F\r\nor  nth  002  unset  F\r\nredo\r\nnth 003 add F =\r\nor nth \"2\" set F \"1\"\r\n\r\n \"or\" set \"override\" a\\:b\r\n or rule bottom \".PHONY $(a b)\" :: \"\"\r\n all append \"override\" b\r\nredo\r\nnth 1 drop F -g\r\nrename ${c} .PHONY\r\n", Ok (Chain (edit_on 1 (RemoveLines (OfAssign (Some 1) (codes "F")))) (edit_on 2 (RemoveLines (OfAssign (Some 2) (codes "F")))) [] ∷ on_line 3 Redo ∷ Chain (edit_on 4 (ChangeValue (One (Some 3)) (codes "F") (edits.Add (codes "=")))) (edit_on 5 (ChangeValue (One (Some 2)) (codes "F") (edits.Set (codes "1")))) ((edit_on 7 (ChangeValue (One None) (codes "override") (edits.Set (codes "a\\:b")))) ∷ (edit_on 8 (AddLine Bottom (NewRule (codes ".PHONY $(a b)") Double []))) ∷ []) ∷ on_line 9 (Apply (ChangeValue Every (codes "override") (edits.Append (codes "b")))) ∷ on_line 10 Redo ∷ on_line 11 (Apply (ChangeValue (One (Some 1)) (codes "F") (edits.Remove (codes "-g")))) ∷ on_line 12 (Apply (RenameTarget (codes "${c}") (codes ".PHONY"))) ∷ [])) ∷  -- alternatives-370
    (codes "try\tall\tdrop\tF\t\"a \"\r\n", Ok (tried_on 1 (ChangeValue Every (codes "F") (edits.Remove (codes "a "))) ∷ [])) ∷  -- alternatives-371
    (codes "all  add  F  \"$\\\\x\"\n", Ok (on_line 1 (Apply (ChangeValue Every (codes "F") (edits.Add (codes "$\\x")))) ∷ [])) ∷  -- alternatives-372
    (codes "nth \"005\" unset \"F\"\r\nrecipe d \"$(\"\r\nredo\r\nall\t\"add\"\tF\t\"a\\\\ b\"\r\n recipe-replace  d  \" a\"  \"say \\\"q\\\"\"\r\nor rename \"d\" x=1\r\n", Ok (on_line 1 (Apply (RemoveLines (OfAssign (Some 5) (codes "F")))) ∷ on_line 2 (Apply (AddRecipe None (codes "d") Last (codes "$("))) ∷ on_line 3 Redo ∷ on_line 4 (Apply (ChangeValue Every (codes "F") (edits.Add (codes "a\\ b")))) ∷ Chain (edit_on 5 (SetRecipe None (codes "d") (ByText (codes " a")) (codes "say \"q\""))) (edit_on 6 (RenameTarget (codes "d") (codes "x=1"))) [] ∷ [])) ∷  -- alternatives-373
    (codes "\"try\"\tall\tappend\tX\ta:b\nnth 2 rule after-var F \"$(p #)\" :: \"\"\n\"try\" recipe-replace \"$(p #)\" \"\" \"rm -rf x\"\nall\tadd\tF\t\"${v a -g = ;\"\nrecipe-insert c x\nset X \"-include2 $# $#\"\n drop  \"F\"  -g\nend\n add F =\n", Err 5) ∷  -- alternatives-374
    (codes "redo\nredo\nnth \"2\" recipe-replace c a t\n \n\"or\" nth 002 \"recipe-remove\" c b\n\"or\"\tnth\t2\trecipe-remove\t\"c\"\t\"x \\\\ y\"\nor rename c \"x.o\"\ndrop F \"-g\"\ncancel\n", Ok (on_line 1 Redo ∷ on_line 2 Redo ∷ Chain (edit_on 3 (SetRecipe (Some 2) (codes "c") (ByText (codes "a")) (codes "t"))) (edit_on 5 (RemoveLines (OfRecipe (Some 2) (codes "c") (ByText (codes "b"))))) ((edit_on 6 (RemoveLines (OfRecipe (Some 2) (codes "c") (ByText (codes "x \\ y"))))) ∷ (edit_on 7 (RenameTarget (codes "c") (codes "x.o"))) ∷ []) ∷ on_line 8 (Apply (ChangeValue (One None) (codes "F") (edits.Remove (codes "-g")))) ∷ on_line 9 Cancel ∷ [])) ∷  -- alternatives-375
    (codes "\"all\" drop F \"-g\"\nundo\ndrop  \"F\"  -g\n", Ok (on_line 1 (Apply (ChangeValue Every (codes "F") (edits.Remove (codes "-g")))) ∷ on_line 2 Undo ∷ on_line 3 (Apply (ChangeValue (One None) (codes "F") (edits.Remove (codes "-g")))) ∷ [])) ∷  -- alternatives-376
    (codes "\"try\" all drop F -g\r\ntry \"set\" a.b b\r\nrecipe-insert c 00000000001 x\r\nadd \"F\" b\r\n\"try\" set X \"b $(a b)\"\r\nundo", Err 3) ∷  -- alternatives-377
    (codes "all \"append\" \"F\" \"a\\\\ b a$ b\"\r\ndrop \"X\" =\r\nbegin\r\nall add F \"-g\"\r\nnth \"1\" drop F \"a$ b\"\r\n nth 001 assign before-var \"F\" override ?= \"\"\r\n\"nth\" 002 add F -O2\r\n or \"nth\" 1 \"drop\" F -g", Ok (on_line 1 (Apply (ChangeValue Every (codes "F") (edits.Append (codes "a\\ b a$ b")))) ∷ on_line 2 (Apply (ChangeValue (One None) (codes "X") (edits.Remove (codes "=")))) ∷ on_line 3 Begin ∷ on_line 4 (Apply (ChangeValue Every (codes "F") (edits.Add (codes "-g")))) ∷ on_line 5 (Apply (ChangeValue (One (Some 1)) (codes "F") (edits.Remove (codes "a$ b")))) ∷ on_line 6 (Apply (AddLine (BeforeVar (Some 1) (codes "F")) (NewAssign (codes "override") Conditional []))) ∷ Chain (edit_on 7 (ChangeValue (One (Some 2)) (codes "F") (edits.Add (codes "-O2")))) (edit_on 8 (ChangeValue (One (Some 1)) (codes "F") (edits.Remove (codes "-g")))) [] ∷ [])) ∷  -- alternatives-378
    []

answers_8 : map (λ row. read_script row.0) rows_8 ≡ map (λ row. row.1) rows_8
unfolding line_len lines_from
answers_8 = refl

abbrev rows_9 : List (List ℕ × Result (List Step) ℕ)
rows_9 =
    (codes "drop X -g\n\"all\"  add  F  -O2\nrecipe-replace d \"rm -f x\" \"rm -f x\"\ndrop F \"=\"\n", Ok (on_line 1 (Apply (ChangeValue (One None) (codes "X") (edits.Remove (codes "-g")))) ∷ on_line 2 (Apply (ChangeValue Every (codes "F") (edits.Add (codes "-O2")))) ∷ on_line 3 (Apply (SetRecipe None (codes "d") (ByText (codes "rm -f x")) (codes "rm -f x"))) ∷ on_line 4 (Apply (ChangeValue (One None) (codes "F") (edits.Remove (codes "=")))) ∷ [])) ∷  -- alternatives-379
    (codes "all drop override -O2\ntry  all  append  override  -O2\n recipe-insert \"c\" 1 \"rm -rf x\"\nundo\ntry cancel\n\"try\" all \"set\" \"override\" \"$ b $(w a)\"\nrecipe-remove\tc\tb\n or all add override \"x$(a  b)\"\nappend X \"$(w a)\"\n\nor unset \"F\"\nor add override \"$(t -g)\"\n \n or \"unrule\" c\ndrop override \"$ b\"\n", Err 5) ∷  -- alternatives-380
    (codes "end\r\ncancel\r\nunset override\r\nor drop \"F\" -g\r\n all drop F a\r\ndrop F \"a:b\"\r\n\r\n\"or\"  nth  2  drop  \"F\"  x=1\r\n \r\nor nth 2 add F -g\r\ntry nth 001 set \"F\" -O2\r\n\"add\" F b\r\n\"rule\" bottom -include2 \":\" \"${c} .PHONY\"\r\nnth 2 recipe-insert -include2 1 \"rm -f x\"\r\nall \"add\" F \"|\"", Ok (on_line 1 End ∷ on_line 2 Cancel ∷ Chain (edit_on 3 (RemoveLines (OfAssign None (codes "override")))) (edit_on 4 (ChangeValue (One None) (codes "F") (edits.Remove (codes "-g")))) [] ∷ on_line 5 (Apply (ChangeValue Every (codes "F") (edits.Remove (codes "a")))) ∷ Chain (edit_on 6 (ChangeValue (One None) (codes "F") (edits.Remove (codes "a:b")))) (edit_on 8 (ChangeValue (One (Some 2)) (codes "F") (edits.Remove (codes "x=1")))) ((edit_on 10 (ChangeValue (One (Some 2)) (codes "F") (edits.Add (codes "-g")))) ∷ []) ∷ tried_on 11 (ChangeValue (One (Some 1)) (codes "F") (edits.Set (codes "-O2"))) ∷ on_line 12 (Apply (ChangeValue (One None) (codes "F") (edits.Add (codes "b")))) ∷ on_line 13 (Apply (AddLine Bottom (NewRule (codes "-include2") Single (codes "${c} .PHONY")))) ∷ on_line 14 (Apply (AddRecipe (Some 2) (codes "-include2") (At 1) (codes "rm -f x"))) ∷ on_line 15 (Apply (ChangeValue Every (codes "F") (edits.Add (codes "|")))) ∷ [])) ∷  -- alternatives-381
    (codes "drop X $\\\nnth \"0\" assign before-rule c CC = \"\"\ntry recipe-replace \"c\" \"say \\\"q\\\"\" \"rm -f x\"\n\"nth\" 0 recipe-remove \"c\" \"x \\\\ y\"\n or all set X a", Ok (on_line 1 (Apply (ChangeValue (One None) (codes "X") (edits.Remove (codes "$\\")))) ∷ on_line 2 (Apply (AddLine (BeforeRule (Some 0) (codes "c")) (NewAssign (codes "CC") Recursive []))) ∷ tried_on 3 (SetRecipe None (codes "c") (ByText (codes "say \"q\"")) (codes "rm -f x")) ∷ Chain (edit_on 4 (RemoveLines (OfRecipe (Some 0) (codes "c") (ByText (codes "x \\ y"))))) (edit_on 5 (ChangeValue Every (codes "X") (edits.Set (codes "a")))) [] ∷ [])) ∷  -- alternatives-382
    (codes "\"try\" \"all\" \"add\" F -g\r\n try drop \"a.b\" \"$(s (b) a)\"\r\nnth 001 \"drop\" F a\r\n", Ok (tried_on 1 (ChangeValue Every (codes "F") (edits.Add (codes "-g"))) ∷ tried_on 2 (ChangeValue (One None) (codes "a.b") (edits.Remove (codes "$(s (b) a)"))) ∷ on_line 3 (Apply (ChangeValue (One (Some 1)) (codes "F") (edits.Remove (codes "a")))) ∷ [])) ∷  -- alternatives-383
    (codes "\"add\"  F  $x\ntry recipe-remove c true\nunset F\nnth 1 \"unrule\" c\nundo\nnth 4294967295 drop \"X\" =\nor drop \"override\" ${c}\n\nor \"nth\" 4294967295 unrule c\n\nor recipe-insert c \"1\" \"rm -f x\"\n\"all\" set override \"\"\nnth \"4294967295\" set \"F\" \"-g |\"\n\nor drop override \"x$(a  b)\"\n \nor rule after-var override ${g(} :: ${g(}\n \n or add override \"b\"\nall  set  override  $x", Ok (on_line 1 (Apply (ChangeValue (One None) (codes "F") (edits.Add (codes "$x")))) ∷ tried_on 2 (RemoveLines (OfRecipe None (codes "c") (ByText (codes "true")))) ∷ on_line 3 (Apply (RemoveLines (OfAssign None (codes "F")))) ∷ on_line 4 (Apply (RemoveLines (OfRule (Some 1) (codes "c")))) ∷ on_line 5 Undo ∷ Chain (edit_on 6 (ChangeValue (One (Some 4294967295)) (codes "X") (edits.Remove (codes "=")))) (edit_on 7 (ChangeValue (One None) (codes "override") (edits.Remove (codes "${c}")))) ((edit_on 9 (RemoveLines (OfRule (Some 4294967295) (codes "c")))) ∷ (edit_on 11 (AddRecipe None (codes "c") (At 1) (codes "rm -f x"))) ∷ []) ∷ on_line 12 (Apply (ChangeValue Every (codes "override") (edits.Set []))) ∷ Chain (edit_on 13 (ChangeValue (One (Some 4294967295)) (codes "F") (edits.Set (codes "-g |")))) (edit_on 15 (ChangeValue (One None) (codes "override") (edits.Remove (codes "x$(a  b)")))) ((edit_on 17 (AddLine (AfterVar None (codes "override")) (NewRule (codes "${g(}") Double (codes "${g(}")))) ∷ (edit_on 19 (ChangeValue (One None) (codes "override") (edits.Add (codes "b")))) ∷ []) ∷ on_line 20 (Apply (ChangeValue Every (codes "override") (edits.Set (codes "$x")))) ∷ [])) ∷  -- alternatives-384
    (codes "append  \"F\"  -g\ndrop F -g\n\"unset\"  \"F\"\nnth 002 unrule \"c\"", Ok (on_line 1 (Apply (ChangeValue (One None) (codes "F") (edits.Append (codes "-g")))) ∷ on_line 2 (Apply (ChangeValue (One None) (codes "F") (edits.Remove (codes "-g")))) ∷ on_line 3 (Apply (RemoveLines (OfAssign None (codes "F")))) ∷ on_line 4 (Apply (RemoveLines (OfRule (Some 2) (codes "c")))) ∷ [])) ∷  -- alternatives-385
    (codes "begin\n all drop F a\n\"add\" \"F\" \"x$(a  b)\"\nor redo\n try  nth  000  recipe-replace  c  \" a\"  \"a\"\n", Err 4) ∷  -- alternatives-386
    (codes "\"try\" rule bottom ${c} \":\" \"${g(} $(s\\\\)\"\ntry \"nth\" 2 unset F\n\"recipe-insert\"\tc\t1\t\"# n\"\nnth  0  \"drop\"  X  \"|\"\n\n or recipe-replace c \"# n\" \"\"\nrecipe-insert\tc\t002\t\"rm -f x\"\nset X \"a\\\\:b .PHONY \t$\"\nor \"nth\" 1 \"recipe-remove\" \"c\" \"rm -f x\"\n \"try\" recipe-insert c 1 \"x \\\\ y\"\n", Ok (tried_on 1 (AddLine Bottom (NewRule (codes "${c}") Single (codes "${g(} $(s\\)"))) ∷ tried_on 2 (RemoveLines (OfAssign (Some 2) (codes "F"))) ∷ on_line 3 (Apply (AddRecipe None (codes "c") (At 1) (codes "# n"))) ∷ Chain (edit_on 4 (ChangeValue (One (Some 0)) (codes "X") (edits.Remove (codes "|")))) (edit_on 6 (SetRecipe None (codes "c") (ByText (codes "# n")) [])) [] ∷ on_line 7 (Apply (AddRecipe None (codes "c") (At 2) (codes "rm -f x"))) ∷ Chain (edit_on 8 (ChangeValue (One None) (codes "X") (edits.Set (codes "a\\:b .PHONY \t$")))) (edit_on 9 (RemoveLines (OfRecipe (Some 1) (codes "c") (ByText (codes "rm -f x"))))) [] ∷ tried_on 10 (AddRecipe None (codes "c") (At 1) (codes "x \\ y")) ∷ [])) ∷  -- alternatives-387
    (codes "begin\nrename \"x.o\" $$\n try recipe-replace $$ \"\" \"# n\"\nappend override \"$(t -g)\"\nnth \"1\" unset F\n\"try\"  nth  2  drop  \"F\"  \"a\\\\ b\"\nadd  override  -g\n", Ok (on_line 1 Begin ∷ on_line 2 (Apply (RenameTarget (codes "x.o") (codes "$$"))) ∷ tried_on 3 (SetRecipe None (codes "$$") (ByText []) (codes "# n")) ∷ on_line 4 (Apply (ChangeValue (One None) (codes "override") (edits.Append (codes "$(t -g)")))) ∷ on_line 5 (Apply (RemoveLines (OfAssign (Some 1) (codes "F")))) ∷ tried_on 6 (ChangeValue (One (Some 2)) (codes "F") (edits.Remove (codes "a\\ b"))) ∷ on_line 7 (Apply (ChangeValue (One None) (codes "override") (edits.Add (codes "-g")))) ∷ [])) ∷  -- alternatives-388
    (codes "all drop \"X\" \";\"\nundo\nnth \"4294967295\" \"recipe-remove\" \"d\" \"rm -f x\"\nor \"drop\" X \\\\a\nor\trecipe-insert\tinclude\t4\t\"rm -f x\"\n\n\"or\" drop X ;\nrecipe-insert\t\"d\"\t002\t\"rm -f x\"\nrecipe-insert\t\"d\"\t5\t\" a\"", Ok (on_line 1 (Apply (ChangeValue Every (codes "X") (edits.Remove (codes ";")))) ∷ on_line 2 Undo ∷ Chain (edit_on 3 (RemoveLines (OfRecipe (Some 4294967295) (codes "d") (ByText (codes "rm -f x"))))) (edit_on 4 (ChangeValue (One None) (codes "X") (edits.Remove (codes "\\\\a")))) ((edit_on 5 (AddRecipe None (codes "include") (At 4) (codes "rm -f x"))) ∷ (edit_on 7 (ChangeValue (One None) (codes "X") (edits.Remove (codes ";")))) ∷ []) ∷ on_line 8 (Apply (AddRecipe None (codes "d") (At 2) (codes "rm -f x"))) ∷ on_line 9 (Apply (AddRecipe None (codes "d") (At 5) (codes " a"))) ∷ [])) ∷  -- alternatives-389
    (codes "\"drop\" \"X\" \"\\\\ $#\"\nnth 2 unset F\ntry add F a\nundo\nassign bottom a.b ::= \": $$\"\n\"drop\"  \"a.b\"  :\n", Ok (on_line 1 (Apply (ChangeValue (One None) (codes "X") (edits.Remove (codes "\\ $#")))) ∷ on_line 2 (Apply (RemoveLines (OfAssign (Some 2) (codes "F")))) ∷ tried_on 3 (ChangeValue (One None) (codes "F") (edits.Add (codes "a"))) ∷ on_line 4 Undo ∷ on_line 5 (Apply (AddLine Bottom (NewAssign (codes "a.b") PosixSimple (codes ": $$")))) ∷ on_line 6 (Apply (ChangeValue (One None) (codes "a.b") (edits.Remove (codes ":")))) ∷ [])) ∷  -- alternatives-390
    (codes "nth 1 add F $\\x\r\nall \"append\" \"F\" -g\r\ntry nth 0 append F \"a:b\"\r\nadd F \"$(t -g)\"", Ok (on_line 1 (Apply (ChangeValue (One (Some 1)) (codes "F") (edits.Add (codes "$\\x")))) ∷ on_line 2 (Apply (ChangeValue Every (codes "F") (edits.Append (codes "-g")))) ∷ tried_on 3 (ChangeValue (One (Some 0)) (codes "F") (edits.Append (codes "a:b"))) ∷ on_line 4 (Apply (ChangeValue (One None) (codes "F") (edits.Add (codes "$(t -g)")))) ∷ [])) ∷  -- alternatives-391
    (codes "all append X \"-g -g\"\n\"rule\"  before-var  X  $(q:;=|)  ::  \"\"\nall append X \"$(s (b) a)\"\nadd X \"$ b\"\ndrop \"X\" a\n", Ok (on_line 1 (Apply (ChangeValue Every (codes "X") (edits.Append (codes "-g -g")))) ∷ on_line 2 (Apply (AddLine (BeforeVar None (codes "X")) (NewRule (codes "$(q:;=|)") Double []))) ∷ on_line 3 (Apply (ChangeValue Every (codes "X") (edits.Append (codes "$(s (b) a)")))) ∷ on_line 4 (Apply (ChangeValue (One None) (codes "X") (edits.Add (codes "$ b")))) ∷ on_line 5 (Apply (ChangeValue (One None) (codes "X") (edits.Remove (codes "a")))) ∷ [])) ∷  -- alternatives-392
    (codes "try append X \"x=1 a\"\n\"drop\" F =\n rule  \"after-var\"  F  ${g(}  :  foo\nall add F \"a\\\\ b\"\ndrop F \"a\\\\ b\"\nall\ntry all drop F -O2\nadd F -O2\n", Err 6) ∷  -- alternatives-393
    (codes " \t\r\ntry all drop F =\r\n", Ok (tried_on 2 (ChangeValue Every (codes "F") (edits.Remove (codes "="))) ∷ [])) ∷  -- alternatives-394
    (codes "try \"nth\" 2 drop F \\#\nall \"add\" F \"a$ b\"\nundo\nnth  1  set  \"override\"  \"$(A -g)\"\nor  recipe-replace  c  \"# n\"  true\n \"nth\"  1  add  F  \"$(a b)\"\n\"nth\" \"2\" drop \"F\" \"$(a b)\"\nor all \"set\" X \"b $(A -g)\"\n# c\n\"or\" recipe-replace c \"ifdef Q\" \"a # b\"\n \nor \"nth\" 1 drop F \"$(t -g)\"\nnth  001  \"unset\"  F\n\"try\" recipe-remove \"c\" \"a\"\n", Ok (tried_on 1 (ChangeValue (One (Some 2)) (codes "F") (edits.Remove (codes "\\#"))) ∷ on_line 2 (Apply (ChangeValue Every (codes "F") (edits.Add (codes "a$ b")))) ∷ on_line 3 Undo ∷ Chain (edit_on 4 (ChangeValue (One (Some 1)) (codes "override") (edits.Set (codes "$(A -g)")))) (edit_on 5 (SetRecipe None (codes "c") (ByText (codes "# n")) (codes "true"))) [] ∷ on_line 6 (Apply (ChangeValue (One (Some 1)) (codes "F") (edits.Add (codes "$(a b)")))) ∷ Chain (edit_on 7 (ChangeValue (One (Some 2)) (codes "F") (edits.Remove (codes "$(a b)")))) (edit_on 8 (ChangeValue Every (codes "X") (edits.Set (codes "b $(A -g)")))) ((edit_on 10 (SetRecipe None (codes "c") (ByText (codes "ifdef Q")) (codes "a # b"))) ∷ (edit_on 12 (ChangeValue (One (Some 1)) (codes "F") (edits.Remove (codes "$(t -g)")))) ∷ []) ∷ on_line 13 (Apply (RemoveLines (OfAssign (Some 1) (codes "F")))) ∷ tried_on 14 (RemoveLines (OfRecipe None (codes "c") (ByText (codes "a")))) ∷ [])) ∷  -- alternatives-395
    (codes "add F b\r\nnth 000 recipe-remove d \"\ttrue\"\r\nnth  2  recipe-remove  c  \"ifdef Q\"\r\nor recipe-insert d \"0\" t\r\ntry recipe-remove \"d\" \" a\"\r\n\"try\" \"all\" \"add\" F -g\r\nnth 1 recipe-replace include \"b\" b\r\nrename \"c\" foo", Ok (on_line 1 (Apply (ChangeValue (One None) (codes "F") (edits.Add (codes "b")))) ∷ on_line 2 (Apply (RemoveLines (OfRecipe (Some 0) (codes "d") (ByText (codes "\ttrue"))))) ∷ Chain (edit_on 3 (RemoveLines (OfRecipe (Some 2) (codes "c") (ByText (codes "ifdef Q"))))) (edit_on 4 (AddRecipe None (codes "d") (At 0) (codes "t"))) [] ∷ tried_on 5 (RemoveLines (OfRecipe None (codes "d") (ByText (codes " a")))) ∷ tried_on 6 (ChangeValue Every (codes "F") (edits.Add (codes "-g"))) ∷ on_line 7 (Apply (SetRecipe (Some 1) (codes "include") (ByText (codes "b")) (codes "b"))) ∷ on_line 8 (Apply (RenameTarget (codes "c") (codes "foo"))) ∷ [])) ∷  -- alternatives-396
    (codes " nth 000 append X -O2\n\nor all add \"X\" a\n\"or\" drop \"F\" -g", Ok (Chain (edit_on 1 (ChangeValue (One (Some 0)) (codes "X") (edits.Append (codes "-O2")))) (edit_on 3 (ChangeValue Every (codes "X") (edits.Add (codes "a")))) ((edit_on 4 (ChangeValue (One None) (codes "F") (edits.Remove (codes "-g")))) ∷ []) ∷ [])) ∷  -- alternatives-397
    (codes "undo\nnth 2 \"set\" F \"\"\n\"all\" \"add\" \"F\" \"$(a\tb)\"\nrecipe-insert  c  1  \"rm -f x\"\n recipe-remove \"c\" true\nnth 2 append F \": ;\"\nbegin\n\"nth\" 002 drop F \"$(a b)\"\nor nth 1 drop F \"b\"\n or  nth  1  recipe-insert  \"c\"  002  \"rm -rf x\"\nbegin", Ok (on_line 1 Undo ∷ on_line 2 (Apply (ChangeValue (One (Some 2)) (codes "F") (edits.Set []))) ∷ on_line 3 (Apply (ChangeValue Every (codes "F") (edits.Add (codes "$(a\tb)")))) ∷ on_line 4 (Apply (AddRecipe None (codes "c") (At 1) (codes "rm -f x"))) ∷ on_line 5 (Apply (RemoveLines (OfRecipe None (codes "c") (ByText (codes "true"))))) ∷ on_line 6 (Apply (ChangeValue (One (Some 2)) (codes "F") (edits.Append (codes ": ;")))) ∷ on_line 7 Begin ∷ Chain (edit_on 8 (ChangeValue (One (Some 2)) (codes "F") (edits.Remove (codes "$(a b)")))) (edit_on 9 (ChangeValue (One (Some 1)) (codes "F") (edits.Remove (codes "b")))) ((edit_on 10 (AddRecipe (Some 1) (codes "c") (At 2) (codes "rm -rf x"))) ∷ []) ∷ on_line 11 Begin ∷ [])) ∷  -- alternatives-398
    (codes "\"nth\" 2 \"drop\" F \"\\\\ b\"\nnth\t001\tappend\tF\t\"1 :\"\n", Ok (on_line 1 (Apply (ChangeValue (One (Some 2)) (codes "F") (edits.Remove (codes "\\ b")))) ∷ on_line 2 (Apply (ChangeValue (One (Some 1)) (codes "F") (edits.Append (codes "1 :")))) ∷ [])) ∷  -- alternatives-399
    (codes "\"add\" X \"-O2\"\n drop F b\nundo\n", Ok (on_line 1 (Apply (ChangeValue (One None) (codes "X") (edits.Add (codes "-O2")))) ∷ on_line 2 (Apply (ChangeValue (One None) (codes "F") (edits.Remove (codes "b")))) ∷ on_line 3 Undo ∷ [])) ∷  -- alternatives-400
    []

answers_9 : map (λ row. read_script row.0) rows_9 ≡ map (λ row. row.1) rows_9
unfolding line_len lines_from
answers_9 = refl
