-- Scripts and what they mean. Made by `tests/definitions/script_rows.py tests/cases/random-runs.tsv`.
use Rattle.std.proofs.Common.{◌≡◌, refl, ℕ, true, false, List, [], ◌∷◌, map, Some, None}
use Rattle.std.specs.Prelude.{codes, Result, Ok, Err}
use Rattle.bstr.specs.Text.{line_len, lines_from}
use Rattle.mk_class.specs.declared.assignment.Flavor.TheVariants.{Recursive, Simple, PosixSimple, Immediate, Conditional, Append, Shell}
use Rattle.mk_edit_language.specs.declared.edit.RuleSeparator.TheVariants.{Single, Double}
use Rattle.mk_edit_language.specs.Edits.{Bottom, BeforeVar, AfterVar, BeforeRule}
use Rattle.mk_edit_language.specs.Edits.{One, NewAssign, NewRule, AddPrereq, RemovePrereq, ByNumber, Last, OfAssign, OfRule, OfRecipe, ChangeValue, ChangePrereqs, AddLine, AddRecipe, SetRecipe, RemoveLines, RenameTarget}
use Rattle.mk_edit_language.specs.Edits as edits
use Rattle.mk_history.specs.Machine.{Apply, Undo, Redo, Begin, End, Cancel}
use Rattle.mk_script.specs.Scripts.{Step}
use Rattle.mk_rows.proofs.scripts.ScriptReader.{on_line, read_script}

abbrev rows_1 : List (List ℕ × Result (List Step) ℕ)
rows_1 =
    (codes "\r\n", Ok []) ∷  -- random-001
    (codes "\"unrule\"  foo\r\nrule bottom a :: \"$$ $(q:;=|)\"\r\nrename \"$(q:;=|)\" $(q:;=|)\r\nrecipe-set $(q:;=|) 2 \"a\0\"\r\n", Ok (on_line 1 (Apply (RemoveLines (OfRule None (codes "foo")))) ∷ on_line 2 (Apply (AddLine Bottom (NewRule (codes "a") Double (codes "$$ $(q:;=|)")))) ∷ on_line 3 (Apply (RenameTarget (codes "$(q:;=|)") (codes "$(q:;=|)"))) ∷ on_line 4 (Apply (SetRecipe None (codes "$(q:;=|)") (ByNumber 2) (codes "a\0"))) ∷ [])) ∷  -- random-002
    (codes "assign\t\"bottom\"\tt1\t+=\t\"$(a b)\"\n unset .RECIPEPREFIX\nnth 4294967295 \"recipe-set\" $x 002 define\nend\nunset .RECIPEPREFIX\nunset  .RECIPEPREFIX\nassign bottom Y \"?=\" a\n", Ok (on_line 1 (Apply (AddLine Bottom (NewAssign (codes "t1") Append (codes "$(a b)")))) ∷ on_line 2 (Apply (RemoveLines (OfAssign None (codes ".RECIPEPREFIX")))) ∷ on_line 3 (Apply (SetRecipe (Some 4294967295) (codes "$x") (ByNumber 2) (codes "define"))) ∷ on_line 4 End ∷ on_line 5 (Apply (RemoveLines (OfAssign None (codes ".RECIPEPREFIX")))) ∷ on_line 6 (Apply (RemoveLines (OfAssign None (codes ".RECIPEPREFIX")))) ∷ on_line 7 (Apply (AddLine Bottom (NewAssign (codes "Y") Conditional (codes "a")))) ∷ [])) ∷  -- random-003
    ([], Ok []) ∷  -- random-004
    (codes "assign after-var \"A\" A := \"t -include2\"\nundo\nredo\nnth 1 set \"A\" %.c\nredo\n", Ok (on_line 1 (Apply (AddLine (AfterVar None (codes "A")) (NewAssign (codes "A") Simple (codes "t -include2")))) ∷ on_line 2 Undo ∷ on_line 3 Redo ∷ on_line 4 (Apply (ChangeValue (One (Some 1)) (codes "A") (edits.Set (codes "%.c")))) ∷ on_line 5 Redo ∷ [])) ∷  -- random-005
    (codes "depend \"a\" x.o\r\nundepend\ta\t\"x.o\"\r\nnth 2 unrule a\r\nrule  bottom  \"\"  \":\"  \"\"\r\nunrule a", Ok (on_line 1 (Apply (ChangePrereqs None (codes "a") (AddPrereq false (codes "x.o")))) ∷ on_line 2 (Apply (ChangePrereqs None (codes "a") (RemovePrereq (codes "x.o")))) ∷ on_line 3 (Apply (RemoveLines (OfRule (Some 2) (codes "a")))) ∷ on_line 4 (Apply (AddLine Bottom (NewRule [] Single []))) ∷ on_line 5 (Apply (RemoveLines (OfRule None (codes "a")))) ∷ [])) ∷  -- random-006
    (codes "nth 2 undepend $$ \"a\\\\ b\"\nassign\tbefore-rule\t\"t\"\t\"t1\"\t\"+=\"\t\"= ${g(}\"\nassign bottom override \":::=\" x.o\n\"assign\" before-var override t != \"%.o 2 3\"\nnth 4294967295 unset \"override\"\nundo\n append override \":\"\nset \"override\" \"$(q:;=|) %.o\"\nassign bottom t1 :::= \"\"\nredo\n", Ok (on_line 1 (Apply (ChangePrereqs (Some 2) (codes "$$") (RemovePrereq (codes "a\\ b")))) ∷ on_line 2 (Apply (AddLine (BeforeRule None (codes "t")) (NewAssign (codes "t1") Append (codes "= ${g(}")))) ∷ on_line 3 (Apply (AddLine Bottom (NewAssign (codes "override") Immediate (codes "x.o")))) ∷ on_line 4 (Apply (AddLine (BeforeVar None (codes "override")) (NewAssign (codes "t") Shell (codes "%.o 2 3")))) ∷ on_line 5 (Apply (RemoveLines (OfAssign (Some 4294967295) (codes "override")))) ∷ on_line 6 Undo ∷ on_line 7 (Apply (ChangeValue (One None) (codes "override") (edits.Append (codes ":")))) ∷ on_line 8 (Apply (ChangeValue (One None) (codes "override") (edits.Set (codes "$(q:;=|) %.o")))) ∷ on_line 9 (Apply (AddLine Bottom (NewAssign (codes "t1") Immediate []))) ∷ on_line 10 Redo ∷ [])) ∷  -- random-007
    (codes "nth 4294967295 \"set\" \"t1\" \"\"\r\n\"undepend\" t t\r\nundo\r\n\"depend\" \"t\" %.c\r\n\"append\" t1 \"$(f {) ${c}\"\r\nrecipe \"t\" cÿ\r\nunrule t\r\n assign  \"before-var\"  >q  \"CC\"  :::=  \"; 1\"\r\n\"assign\" before-var \">q\" override \":=\" |", Ok (on_line 1 (Apply (ChangeValue (One (Some 4294967295)) (codes "t1") (edits.Set []))) ∷ on_line 2 (Apply (ChangePrereqs None (codes "t") (RemovePrereq (codes "t")))) ∷ on_line 3 Undo ∷ on_line 4 (Apply (ChangePrereqs None (codes "t") (AddPrereq false (codes "%.c")))) ∷ on_line 5 (Apply (ChangeValue (One None) (codes "t1") (edits.Append (codes "$(f {) ${c}")))) ∷ on_line 6 (Apply (AddRecipe None (codes "t") Last (codes "cÿ"))) ∷ on_line 7 (Apply (RemoveLines (OfRule None (codes "t")))) ∷ on_line 8 (Apply (AddLine (BeforeVar None (codes ">q")) (NewAssign (codes "CC") Immediate (codes "; 1")))) ∷ on_line 9 (Apply (AddLine (BeforeVar None (codes ">q")) (NewAssign (codes "override") Simple (codes "|")))) ∷ [])) ∷  -- random-008
    (codes "cancel\nend\nend\nundo\nend\nundo\n", Ok (on_line 1 Cancel ∷ on_line 2 End ∷ on_line 3 End ∷ on_line 4 Undo ∷ on_line 5 End ∷ on_line 6 Undo ∷ [])) ∷  -- random-009
    (codes "nth \"4294967295\" append a.b \"$(q:;=|)\"\nassign before-var a.b endef != \"c :\"\n\"assign\" before-rule .PHONY A :::= c\n\"nth\" \"1\" \"set\" \"A\" $(q:;=|)\nredo\n\"unset\" \"Y\"\nrule bottom $x : %.o\nset endef ${c}\nset a.b foo\nredo\n", Ok (on_line 1 (Apply (ChangeValue (One (Some 4294967295)) (codes "a.b") (edits.Append (codes "$(q:;=|)")))) ∷ on_line 2 (Apply (AddLine (BeforeVar None (codes "a.b")) (NewAssign (codes "endef") Shell (codes "c :")))) ∷ on_line 3 (Apply (AddLine (BeforeRule None (codes ".PHONY")) (NewAssign (codes "A") Immediate (codes "c")))) ∷ on_line 4 (Apply (ChangeValue (One (Some 1)) (codes "A") (edits.Set (codes "$(q:;=|)")))) ∷ on_line 5 Redo ∷ on_line 6 (Apply (RemoveLines (OfAssign None (codes "Y")))) ∷ on_line 7 (Apply (AddLine Bottom (NewRule (codes "$x") Single (codes "%.o")))) ∷ on_line 8 (Apply (ChangeValue (One None) (codes "endef") (edits.Set (codes "${c}")))) ∷ on_line 9 (Apply (ChangeValue (One None) (codes "a.b") (edits.Set (codes "foo")))) ∷ on_line 10 Redo ∷ [])) ∷  -- random-011
    (codes "assign bottom t \":=\" \"2 3\"\nrename \".PHONY\" \"$\t\"\nappend $(X) \".PHONY %.o\"\nrecipe \"-include2\" \" a\"\n\"append\" t $$\n\"nth\" \"0\" unrule \"$$\"\nunrule -include2\nredo\nrename $$ $\nbegin\nundepend $$ c\n", Ok (on_line 1 (Apply (AddLine Bottom (NewAssign (codes "t") Simple (codes "2 3")))) ∷ on_line 2 (Apply (RenameTarget (codes ".PHONY") (codes "$\t"))) ∷ on_line 3 (Apply (ChangeValue (One None) (codes "$(X)") (edits.Append (codes ".PHONY %.o")))) ∷ on_line 4 (Apply (AddRecipe None (codes "-include2") Last (codes " a"))) ∷ on_line 5 (Apply (ChangeValue (One None) (codes "t") (edits.Append (codes "$$")))) ∷ on_line 6 (Apply (RemoveLines (OfRule (Some 0) (codes "$$")))) ∷ on_line 7 (Apply (RemoveLines (OfRule None (codes "-include2")))) ∷ on_line 8 Redo ∷ on_line 9 (Apply (RenameTarget (codes "$$") (codes "$"))) ∷ on_line 10 Begin ∷ on_line 11 (Apply (ChangePrereqs None (codes "$$") (RemovePrereq (codes "c")))) ∷ [])) ∷  -- random-012
    (codes "redo\nbegin\ndepend $(q:;=|) a&b\nredo\nend\n\"set\" \"X\" =\nnth 0 assign before-rule b X :::= \"\"\n", Ok (on_line 1 Redo ∷ on_line 2 Begin ∷ on_line 3 (Apply (ChangePrereqs None (codes "$(q:;=|)") (AddPrereq false (codes "a&b")))) ∷ on_line 4 Redo ∷ on_line 5 End ∷ on_line 6 (Apply (ChangeValue (One None) (codes "X") (edits.Set (codes "=")))) ∷ on_line 7 (Apply (AddLine (BeforeRule (Some 0) (codes "b")) (NewAssign (codes "X") Immediate []))) ∷ [])) ∷  -- random-013
    (codes "undo\r\n\"rule\"  bottom  \"c foo\"  ::  \"a\"\r\nredo\r\nrule bottom \"-include2\" : -include2\r\nrule bottom \"c b\" :: $x\r\nassign bottom \"CC\" ?= \"$(f {)\"\r\nrule bottom $(s\\) : \"\"\r\nrule \"bottom\" foo :: \"$x %.c\"\r\nrule \"bottom\" -include2 \"::\" \"${g(}\"\r\n", Ok (on_line 1 Undo ∷ on_line 2 (Apply (AddLine Bottom (NewRule (codes "c foo") Double (codes "a")))) ∷ on_line 3 Redo ∷ on_line 4 (Apply (AddLine Bottom (NewRule (codes "-include2") Single (codes "-include2")))) ∷ on_line 5 (Apply (AddLine Bottom (NewRule (codes "c b") Double (codes "$x")))) ∷ on_line 6 (Apply (AddLine Bottom (NewAssign (codes "CC") Conditional (codes "$(f {)")))) ∷ on_line 7 (Apply (AddLine Bottom (NewRule (codes "$(s\\)") Single []))) ∷ on_line 8 (Apply (AddLine Bottom (NewRule (codes "foo") Double (codes "$x %.c")))) ∷ on_line 9 (Apply (AddLine Bottom (NewRule (codes "-include2") Double (codes "${g(}")))) ∷ [])) ∷  -- random-014
    (codes "\"assign\" before-rule a t1 ?= \"\\\\# $(f {)\"\r\nnth 2 rule before-var t1 \"a&b t\" : $(s\\)\r\n \"unrule\" a\r\n\"undepend\" x.o a&b\r\nassign before-var Y t1 := \"\"\r\nundo\r\nundo\r\nrename\ta&b\t${g(}\r\nend\r\n recipe-del b 4294967295\r\n", Ok (on_line 1 (Apply (AddLine (BeforeRule None (codes "a")) (NewAssign (codes "t1") Conditional (codes "\\# $(f {)")))) ∷ on_line 2 (Apply (AddLine (BeforeVar (Some 2) (codes "t1")) (NewRule (codes "a&b t") Single (codes "$(s\\)")))) ∷ on_line 3 (Apply (RemoveLines (OfRule None (codes "a")))) ∷ on_line 4 (Apply (ChangePrereqs None (codes "x.o") (RemovePrereq (codes "a&b")))) ∷ on_line 5 (Apply (AddLine (BeforeVar None (codes "Y")) (NewAssign (codes "t1") Simple []))) ∷ on_line 6 Undo ∷ on_line 7 Undo ∷ on_line 8 (Apply (RenameTarget (codes "a&b") (codes "${g(}"))) ∷ on_line 9 End ∷ on_line 10 (Apply (RemoveLines (OfRecipe None (codes "b") (ByNumber 4294967295)))) ∷ [])) ∷  -- random-015
    (codes "assign\tbottom\t\"ifdef\"\t:::=\t\"$(s\\\\) %.o\"\n\"rule\"\tbottom\t\"$(p #)\"\t:\t\"$(p #)\"\nredo\n\"depend-order\" \"$(p #)\" $x\n\"rule\" before-rule \".PHONY\" \"$(a b)\" :: \"%.c $(p #)\"\nundepend\ta&b\t$x\nset X 1 2\nundo\nrecipe-del \"$(p #)\" 4294967295\n", Err 7) ∷  -- random-017
    (codes "unset \"A\"\ncancel\nrule after-var \".RECIPEPREFIX\" ${g(} : \"x.o a&b\"\nend\nundo\nnth 2 \"unrule\" y\nnth 002 append A \"2 3 \\\\#\"\n", Ok (on_line 1 (Apply (RemoveLines (OfAssign None (codes "A")))) ∷ on_line 2 Cancel ∷ on_line 3 (Apply (AddLine (AfterVar None (codes ".RECIPEPREFIX")) (NewRule (codes "${g(}") Single (codes "x.o a&b")))) ∷ on_line 4 End ∷ on_line 5 Undo ∷ on_line 6 (Apply (RemoveLines (OfRule (Some 2) (codes "y")))) ∷ on_line 7 (Apply (ChangeValue (One (Some 2)) (codes "A") (edits.Append (codes "2 3 \\#")))) ∷ [])) ∷  -- random-018
    (codes "\"unset\" .RECIPEPREFIX\nappend .RECIPEPREFIX =\nappend \".RECIPEPREFIX\" \"-include2\"\nundo\nnth 002 \"set\" \".RECIPEPREFIX\" \"\"\n\"unset\" .RECIPEPREFIX\nundo\n\"nth\" 1 set \".RECIPEPREFIX\" $x\n", Ok (on_line 1 (Apply (RemoveLines (OfAssign None (codes ".RECIPEPREFIX")))) ∷ on_line 2 (Apply (ChangeValue (One None) (codes ".RECIPEPREFIX") (edits.Append (codes "=")))) ∷ on_line 3 (Apply (ChangeValue (One None) (codes ".RECIPEPREFIX") (edits.Append (codes "-include2")))) ∷ on_line 4 Undo ∷ on_line 5 (Apply (ChangeValue (One (Some 2)) (codes ".RECIPEPREFIX") (edits.Set []))) ∷ on_line 6 (Apply (RemoveLines (OfAssign None (codes ".RECIPEPREFIX")))) ∷ on_line 7 Undo ∷ on_line 8 (Apply (ChangeValue (One (Some 1)) (codes ".RECIPEPREFIX") (edits.Set (codes "$x")))) ∷ [])) ∷  -- random-019
    (codes "set \"t1\" \"\"\nnth 2 unrule \"$(p #)\"\nredo\nundo\nredo\n unset .RECIPEPREFIX\nredo\nrecipe-set -include2 \"4294967295\" \" a\"\nassign \"before-rule\" \"$(p #)\" \"override\" += \"$(q:;=|) x.o\"\n unrule \"$(p #)\"", Ok (on_line 1 (Apply (ChangeValue (One None) (codes "t1") (edits.Set []))) ∷ on_line 2 (Apply (RemoveLines (OfRule (Some 2) (codes "$(p #)")))) ∷ on_line 3 Redo ∷ on_line 4 Undo ∷ on_line 5 Redo ∷ on_line 6 (Apply (RemoveLines (OfAssign None (codes ".RECIPEPREFIX")))) ∷ on_line 7 Redo ∷ on_line 8 (Apply (SetRecipe None (codes "-include2") (ByNumber 4294967295) (codes " a"))) ∷ on_line 9 (Apply (AddLine (BeforeRule None (codes "$(p #)")) (NewAssign (codes "override") Append (codes "$(q:;=|) x.o")))) ∷ on_line 10 (Apply (RemoveLines (OfRule None (codes "$(p #)")))) ∷ [])) ∷  -- random-020
    (codes " nth \"002\" set -x_9 \"=\"\n\"set\" -x_9 \"c =\"\nnth 000 undepend \"$(f {)\" \"$(f {)\"\nredo\nset\t-x_9\t\"a a&b\"\nnth  \"2\"  undepend  \"$(f {)\"  \"$(f {)\"\nrecipe \"$(s\\\\)\" \"\tb\"\n\"recipe-set\" \"$(f {)\" 0 x\n\"nth\"  1  recipe-del  \"$(f {)\"  4294967295\n", Ok (on_line 1 (Apply (ChangeValue (One (Some 2)) (codes "-x_9") (edits.Set (codes "=")))) ∷ on_line 2 (Apply (ChangeValue (One None) (codes "-x_9") (edits.Set (codes "c =")))) ∷ on_line 3 (Apply (ChangePrereqs (Some 0) (codes "$(f {)") (RemovePrereq (codes "$(f {)")))) ∷ on_line 4 Redo ∷ on_line 5 (Apply (ChangeValue (One None) (codes "-x_9") (edits.Set (codes "a a&b")))) ∷ on_line 6 (Apply (ChangePrereqs (Some 2) (codes "$(f {)") (RemovePrereq (codes "$(f {)")))) ∷ on_line 7 (Apply (AddRecipe None (codes "$(s\\)") Last (codes "\tb"))) ∷ on_line 8 (Apply (SetRecipe None (codes "$(f {)") (ByNumber 0) (codes "x"))) ∷ on_line 9 (Apply (RemoveLines (OfRecipe (Some 1) (codes "$(f {)") (ByNumber 4294967295)))) ∷ [])) ∷  -- random-021
    (codes "depend-order b a\n \"nth\"  0  recipe-set  \"b\"  1  \"$(\"\nrule before-rule b $(q:;=|) \":\" \"\"\ncancel\nundo\nnth \"0\" recipe b \"t\"\n", Ok (on_line 1 (Apply (ChangePrereqs None (codes "b") (AddPrereq true (codes "a")))) ∷ on_line 2 (Apply (SetRecipe (Some 0) (codes "b") (ByNumber 1) (codes "$("))) ∷ on_line 3 (Apply (AddLine (BeforeRule None (codes "b")) (NewRule (codes "$(q:;=|)") Single []))) ∷ on_line 4 Cancel ∷ on_line 5 Undo ∷ on_line 6 (Apply (AddRecipe (Some 0) (codes "b") Last (codes "t"))) ∷ [])) ∷  -- random-022
    (codes "\"unset\" a\\=\n append a\\= 1\nrule after-var \"t1\" \"foo b\" :: \"$x $\t\"\nset a\\= x.o\nundo\n", Ok (on_line 1 (Apply (RemoveLines (OfAssign None (codes "a\\=")))) ∷ on_line 2 (Apply (ChangeValue (One None) (codes "a\\=") (edits.Append (codes "1")))) ∷ on_line 3 (Apply (AddLine (AfterVar None (codes "t1")) (NewRule (codes "foo b") Double (codes "$x $\t")))) ∷ on_line 4 (Apply (ChangeValue (One None) (codes "a\\=") (edits.Set (codes "x.o")))) ∷ on_line 5 Undo ∷ [])) ∷  -- random-023
    (codes "set >q \"$(p #) $(q:;=|)\"\nunrule b\nrule before-var a.b \"$$ $(p #)\" \"::\" \"$(p #) a&b\"\nundo\n", Ok (on_line 1 (Apply (ChangeValue (One None) (codes ">q") (edits.Set (codes "$(p #) $(q:;=|)")))) ∷ on_line 2 (Apply (RemoveLines (OfRule None (codes "b")))) ∷ on_line 3 (Apply (AddLine (BeforeVar None (codes "a.b")) (NewRule (codes "$$ $(p #)") Double (codes "$(p #) a&b")))) ∷ on_line 4 Undo ∷ [])) ∷  -- random-024
    (codes "set X$: \"\"\n nth 4294967295 assign before-rule a \"e\" = $(s\\)\n\"rename\" a&b \"$(f {)\"\nredo\nnth 2 set X$: \"$(a b) \\\\$x\"\nappend ifdef \"\"\nunrule a\nundepend x.o a&b\n\"recipe\" x.o q:=1\nredo\n", Ok (on_line 1 (Apply (ChangeValue (One None) (codes "X$:") (edits.Set []))) ∷ on_line 2 (Apply (AddLine (BeforeRule (Some 4294967295) (codes "a")) (NewAssign (codes "e") Recursive (codes "$(s\\)")))) ∷ on_line 3 (Apply (RenameTarget (codes "a&b") (codes "$(f {)"))) ∷ on_line 4 Redo ∷ on_line 5 (Apply (ChangeValue (One (Some 2)) (codes "X$:") (edits.Set (codes "$(a b) \\$x")))) ∷ on_line 6 (Apply (ChangeValue (One None) (codes "ifdef") (edits.Append []))) ∷ on_line 7 (Apply (RemoveLines (OfRule None (codes "a")))) ∷ on_line 8 (Apply (ChangePrereqs None (codes "x.o") (RemovePrereq (codes "a&b")))) ∷ on_line 9 (Apply (AddRecipe None (codes "x.o") Last (codes "q:=1"))) ∷ on_line 10 Redo ∷ [])) ∷  -- random-025
    (codes "undo\nrule bottom -include2 :: \"\"\nbegin\nundo\n recipe-set %.c 000 \" a\"\nassign \"bottom\" CC ::= \"\\\\$x $$\"\nassign bottom X := \"1 1\"\ncancel\nrule\tbottom\t\"\"\t\":\"\t\"t $(f {)\"", Ok (on_line 1 Undo ∷ on_line 2 (Apply (AddLine Bottom (NewRule (codes "-include2") Double []))) ∷ on_line 3 Begin ∷ on_line 4 Undo ∷ on_line 5 (Apply (SetRecipe None (codes "%.c") (ByNumber 0) (codes " a"))) ∷ on_line 6 (Apply (AddLine Bottom (NewAssign (codes "CC") PosixSimple (codes "\\$x $$")))) ∷ on_line 7 (Apply (AddLine Bottom (NewAssign (codes "X") Simple (codes "1 1")))) ∷ on_line 8 Cancel ∷ on_line 9 (Apply (AddLine Bottom (NewRule [] Single (codes "t $(f {)")))) ∷ [])) ∷  -- random-026
    (codes "end\nundo\nrule bottom $x : \"$(p #) ${c}\"\nundo\nset \"a.b\" \"a\"\nundo\n\"append\" a.b \"%.o |\"\n", Ok (on_line 1 End ∷ on_line 2 Undo ∷ on_line 3 (Apply (AddLine Bottom (NewRule (codes "$x") Single (codes "$(p #) ${c}")))) ∷ on_line 4 Undo ∷ on_line 5 (Apply (ChangeValue (One None) (codes "a.b") (edits.Set (codes "a")))) ∷ on_line 6 Undo ∷ on_line 7 (Apply (ChangeValue (One None) (codes "a.b") (edits.Append (codes "%.o |")))) ∷ [])) ∷  -- random-027
    (codes "assign \"bottom\" a.b != .PHONY\r\n\"depend\" \"foo\" \"$&\"\r\nnth 0 undepend \"foo\" foo\r\nrecipe-set \"foo\" 1 x\r\nrename\t$&\t$(s\\)\r\n\"set\" a.b \":: b\"\r\nnth 4294967295 set a.b \"${c} foo\"\r\nassign bottom \"override\" != .PHONY\r\nredo\r\nrecipe foo x\r\n\"nth\" 2 set a.b \"\"\r\n rule after-var override \"foo $(q:;=|)\" \"::\" \"$x ${c}\"", Ok (on_line 1 (Apply (AddLine Bottom (NewAssign (codes "a.b") Shell (codes ".PHONY")))) ∷ on_line 2 (Apply (ChangePrereqs None (codes "foo") (AddPrereq false (codes "$&")))) ∷ on_line 3 (Apply (ChangePrereqs (Some 0) (codes "foo") (RemovePrereq (codes "foo")))) ∷ on_line 4 (Apply (SetRecipe None (codes "foo") (ByNumber 1) (codes "x"))) ∷ on_line 5 (Apply (RenameTarget (codes "$&") (codes "$(s\\)"))) ∷ on_line 6 (Apply (ChangeValue (One None) (codes "a.b") (edits.Set (codes ":: b")))) ∷ on_line 7 (Apply (ChangeValue (One (Some 4294967295)) (codes "a.b") (edits.Set (codes "${c} foo")))) ∷ on_line 8 (Apply (AddLine Bottom (NewAssign (codes "override") Shell (codes ".PHONY")))) ∷ on_line 9 Redo ∷ on_line 10 (Apply (AddRecipe None (codes "foo") Last (codes "x"))) ∷ on_line 11 (Apply (ChangeValue (One (Some 2)) (codes "a.b") (edits.Set []))) ∷ on_line 12 (Apply (AddLine (AfterVar None (codes "override")) (NewRule (codes "foo $(q:;=|)") Double (codes "$x ${c}")))) ∷ [])) ∷  -- random-028
    (codes "end\ncancel\nundepend  \"$$\"  a&b\nend\nnth  1  append  \">A\"  \".PHONY %.o\"\nredo\nset >A a\\:b\nappend >A \"t |\"\n\"undepend\"\t\"foo\"\t\"$x\"\n\"nth\"\t\"4294967295\"\t\"set\"\t>A\t;\nnth \"1\" set \">A\" $(s\\)\nunset >A", Ok (on_line 1 End ∷ on_line 2 Cancel ∷ on_line 3 (Apply (ChangePrereqs None (codes "$$") (RemovePrereq (codes "a&b")))) ∷ on_line 4 End ∷ on_line 5 (Apply (ChangeValue (One (Some 1)) (codes ">A") (edits.Append (codes ".PHONY %.o")))) ∷ on_line 6 Redo ∷ on_line 7 (Apply (ChangeValue (One None) (codes ">A") (edits.Set (codes "a\\:b")))) ∷ on_line 8 (Apply (ChangeValue (One None) (codes ">A") (edits.Append (codes "t |")))) ∷ on_line 9 (Apply (ChangePrereqs None (codes "foo") (RemovePrereq (codes "$x")))) ∷ on_line 10 (Apply (ChangeValue (One (Some 4294967295)) (codes ">A") (edits.Set (codes ";")))) ∷ on_line 11 (Apply (ChangeValue (One (Some 1)) (codes ">A") (edits.Set (codes "$(s\\)")))) ∷ on_line 12 (Apply (RemoveLines (OfAssign None (codes ">A")))) ∷ [])) ∷  -- random-029
    (codes "\"recipe\" b \"e f \\\\ g\"\nredo\nnth 1 unrule b\nend\nrule after-var \"t1\" x.o : .PHONY\nbegin\n", Ok (on_line 1 (Apply (AddRecipe None (codes "b") Last (codes "e f \\ g"))) ∷ on_line 2 Redo ∷ on_line 3 (Apply (RemoveLines (OfRule (Some 1) (codes "b")))) ∷ on_line 4 End ∷ on_line 5 (Apply (AddLine (AfterVar None (codes "t1")) (NewRule (codes "x.o") Single (codes ".PHONY")))) ∷ on_line 6 Begin ∷ [])) ∷  -- random-030
    (codes "\"nth\" \"4294967295\" depend-order .PHONY |\nundo\n\"assign\"\tbottom\tdefine\t+=\t$#\nunset .RECIPEPREFIX\nunset .RECIPEPREFIX\n\"set\" define x.o\nbegin\nnth 2 set define \"$(p #)\"\nappend .RECIPEPREFIX a\\:b\n", Ok (on_line 1 (Apply (ChangePrereqs (Some 4294967295) (codes ".PHONY") (AddPrereq true (codes "|")))) ∷ on_line 2 Undo ∷ on_line 3 (Apply (AddLine Bottom (NewAssign (codes "define") Append (codes "$#")))) ∷ on_line 4 (Apply (RemoveLines (OfAssign None (codes ".RECIPEPREFIX")))) ∷ on_line 5 (Apply (RemoveLines (OfAssign None (codes ".RECIPEPREFIX")))) ∷ on_line 6 (Apply (ChangeValue (One None) (codes "define") (edits.Set (codes "x.o")))) ∷ on_line 7 Begin ∷ on_line 8 (Apply (ChangeValue (One (Some 2)) (codes "define") (edits.Set (codes "$(p #)")))) ∷ on_line 9 (Apply (ChangeValue (One None) (codes ".RECIPEPREFIX") (edits.Append (codes "a\\:b")))) ∷ [])) ∷  -- random-031
    (codes "\"recipe-del\" x.o \"1\"\n\"unrule\" y\ndepend-order  y  \"$(s\\\\)\"\nunset \"+\"\nnth 4294967295 undepend $$ x.o\n", Ok (on_line 1 (Apply (RemoveLines (OfRecipe None (codes "x.o") (ByNumber 1)))) ∷ on_line 2 (Apply (RemoveLines (OfRule None (codes "y")))) ∷ on_line 3 (Apply (ChangePrereqs None (codes "y") (AddPrereq true (codes "$(s\\)")))) ∷ on_line 4 (Apply (RemoveLines (OfAssign None (codes "+")))) ∷ on_line 5 (Apply (ChangePrereqs (Some 4294967295) (codes "$$") (RemovePrereq (codes "x.o")))) ∷ [])) ∷  -- random-032
    (codes "redo\nassign before-var >q \"A\" = \"b $(a b)\"\nnth 0 rule after-var \"-x_9\" x.o : \"$(a b)\"\nbegin", Ok (on_line 1 Redo ∷ on_line 2 (Apply (AddLine (BeforeVar None (codes ">q")) (NewAssign (codes "A") Recursive (codes "b $(a b)")))) ∷ on_line 3 (Apply (AddLine (AfterVar (Some 0) (codes "-x_9")) (NewRule (codes "x.o") Single (codes "$(a b)")))) ∷ on_line 4 Begin ∷ [])) ∷  -- random-033
    (codes "nth 0 append Y \"$(s\\\\) -include2\"\r\nassign \"bottom\" override += \"c 2 3\"\r\nend", Ok (on_line 1 (Apply (ChangeValue (One (Some 0)) (codes "Y") (edits.Append (codes "$(s\\) -include2")))) ∷ on_line 2 (Apply (AddLine Bottom (NewAssign (codes "override") Append (codes "c 2 3")))) ∷ on_line 3 End ∷ [])) ∷  -- random-034
    (codes "unset \"Z\"\nrename a a\nassign before-var \"X$ \" X \"?=\" \"\"\n\"nth\" 1 set .RECIPEPREFIX 1\nassign \"before-var\" t1 override := $$\nnth 4294967295 recipe a&b \"y # z\"\nassign bottom \"CC\" ?= \"a\\\\:b $(p #)\"\n\"set\" \"t1\" \"\"\n append CC .PHONY", Ok (on_line 1 (Apply (RemoveLines (OfAssign None (codes "Z")))) ∷ on_line 2 (Apply (RenameTarget (codes "a") (codes "a"))) ∷ on_line 3 (Apply (AddLine (BeforeVar None (codes "X$ ")) (NewAssign (codes "X") Conditional []))) ∷ on_line 4 (Apply (ChangeValue (One (Some 1)) (codes ".RECIPEPREFIX") (edits.Set (codes "1")))) ∷ on_line 5 (Apply (AddLine (BeforeVar None (codes "t1")) (NewAssign (codes "override") Simple (codes "$$")))) ∷ on_line 6 (Apply (AddRecipe (Some 4294967295) (codes "a&b") Last (codes "y # z"))) ∷ on_line 7 (Apply (AddLine Bottom (NewAssign (codes "CC") Conditional (codes "a\\:b $(p #)")))) ∷ on_line 8 (Apply (ChangeValue (One None) (codes "t1") (edits.Set []))) ∷ on_line 9 (Apply (ChangeValue (One None) (codes "CC") (edits.Append (codes ".PHONY")))) ∷ [])) ∷  -- random-035
    (codes "\"recipe\"  ${c}  cÿ\nnth \"000\" \"unrule\" foo\nnth 1 assign \"after-var\" define t != \"$(f {)\"\nredo\nrecipe-set \"$(f {)\" 2 \"\"\nrecipe foo cÿ\nend\nundo\nrecipe-del foo 1\nrecipe foo t\nrule after-var define \"\" : \"\"\nredo", Ok (on_line 1 (Apply (AddRecipe None (codes "${c}") Last (codes "cÿ"))) ∷ on_line 2 (Apply (RemoveLines (OfRule (Some 0) (codes "foo")))) ∷ on_line 3 (Apply (AddLine (AfterVar (Some 1) (codes "define")) (NewAssign (codes "t") Shell (codes "$(f {)")))) ∷ on_line 4 Redo ∷ on_line 5 (Apply (SetRecipe None (codes "$(f {)") (ByNumber 2) [])) ∷ on_line 6 (Apply (AddRecipe None (codes "foo") Last (codes "cÿ"))) ∷ on_line 7 End ∷ on_line 8 Undo ∷ on_line 9 (Apply (RemoveLines (OfRecipe None (codes "foo") (ByNumber 1)))) ∷ on_line 10 (Apply (AddRecipe None (codes "foo") Last (codes "t"))) ∷ on_line 11 (Apply (AddLine (AfterVar None (codes "define")) (NewRule [] Single []))) ∷ on_line 12 Redo ∷ [])) ∷  -- random-036
    (codes "nth 2 undepend \"x.o\" y\n set a.b \"\"\nredo\n", Ok (on_line 1 (Apply (ChangePrereqs (Some 2) (codes "x.o") (RemovePrereq (codes "y")))) ∷ on_line 2 (Apply (ChangeValue (One None) (codes "a.b") (edits.Set []))) ∷ on_line 3 Redo ∷ [])) ∷  -- random-037
    (codes "nth 4294967295 depend a ${g(}\nnth 1 recipe-del a \"4294967295\"\nrecipe-del a 4294967295\nnth \"001\" undepend a foo\ndepend-order $(s\\) \"$(f {)\"\ncancel\nundepend a \"$(f {)\"\nundo\n", Ok (on_line 1 (Apply (ChangePrereqs (Some 4294967295) (codes "a") (AddPrereq false (codes "${g(}")))) ∷ on_line 2 (Apply (RemoveLines (OfRecipe (Some 1) (codes "a") (ByNumber 4294967295)))) ∷ on_line 3 (Apply (RemoveLines (OfRecipe None (codes "a") (ByNumber 4294967295)))) ∷ on_line 4 (Apply (ChangePrereqs (Some 1) (codes "a") (RemovePrereq (codes "foo")))) ∷ on_line 5 (Apply (ChangePrereqs None (codes "$(s\\)") (AddPrereq true (codes "$(f {)")))) ∷ on_line 6 Cancel ∷ on_line 7 (Apply (ChangePrereqs None (codes "a") (RemovePrereq (codes "$(f {)")))) ∷ on_line 8 Undo ∷ [])) ∷  -- random-038
    (codes " unset \"ifdef\"\nunrule x.o\n unrule x.o\n", Ok (on_line 1 (Apply (RemoveLines (OfAssign None (codes "ifdef")))) ∷ on_line 2 (Apply (RemoveLines (OfRule None (codes "x.o")))) ∷ on_line 3 (Apply (RemoveLines (OfRule None (codes "x.o")))) ∷ [])) ∷  -- random-039
    (codes "assign  bottom  CC  :=  \"\"\r\nnth 2 assign \"after-var\" CC a.b += \"$(p #) a&b\"\r\n\"assign\"  before-var  CC  e  \"?=\"  \"\"\r\n", Ok (on_line 1 (Apply (AddLine Bottom (NewAssign (codes "CC") Simple []))) ∷ on_line 2 (Apply (AddLine (AfterVar (Some 2) (codes "CC")) (NewAssign (codes "a.b") Append (codes "$(p #) a&b")))) ∷ on_line 3 (Apply (AddLine (BeforeVar None (codes "CC")) (NewAssign (codes "e") Conditional []))) ∷ [])) ∷  -- random-040
    (codes "redo\nappend .RECIPEPREFIX -include2\nbegin\nnth 0 append \".RECIPEPREFIX\" t\nunset CC\n", Ok (on_line 1 Redo ∷ on_line 2 (Apply (ChangeValue (One None) (codes ".RECIPEPREFIX") (edits.Append (codes "-include2")))) ∷ on_line 3 Begin ∷ on_line 4 (Apply (ChangeValue (One (Some 0)) (codes ".RECIPEPREFIX") (edits.Append (codes "t")))) ∷ on_line 5 (Apply (RemoveLines (OfAssign None (codes "CC")))) ∷ [])) ∷  -- random-041
    (codes "assign before-var >Z t1 \"::=\" \"\"\r\nundepend  >%.c  $$\r\nassign before-var >Z e = b\r\nundo\r\n", Ok (on_line 1 (Apply (AddLine (BeforeVar None (codes ">Z")) (NewAssign (codes "t1") PosixSimple []))) ∷ on_line 2 (Apply (ChangePrereqs None (codes ">%.c") (RemovePrereq (codes "$$")))) ∷ on_line 3 (Apply (AddLine (BeforeVar None (codes ">Z")) (NewAssign (codes "e") Recursive (codes "b")))) ∷ on_line 4 Undo ∷ [])) ∷  -- random-042
    (codes "undepend  c  )!\nnth\t2\tunset\tt1\nrename\tt\t$\\\n rename \"b\" x.o\nbegin\nredo\nend\n recipe-set  t  0  \"e f \\\\ g\"\n\"unrule\" t\nbegin\n unset t1", Ok (on_line 1 (Apply (ChangePrereqs None (codes "c") (RemovePrereq (codes ")!")))) ∷ on_line 2 (Apply (RemoveLines (OfAssign (Some 2) (codes "t1")))) ∷ on_line 3 (Apply (RenameTarget (codes "t") (codes "$\\"))) ∷ on_line 4 (Apply (RenameTarget (codes "b") (codes "x.o"))) ∷ on_line 5 Begin ∷ on_line 6 Redo ∷ on_line 7 End ∷ on_line 8 (Apply (SetRecipe None (codes "t") (ByNumber 0) (codes "e f \\ g"))) ∷ on_line 9 (Apply (RemoveLines (OfRule None (codes "t")))) ∷ on_line 10 Begin ∷ on_line 11 (Apply (RemoveLines (OfAssign None (codes "t1")))) ∷ [])) ∷  -- random-043
    (codes "unset CC\nrecipe-del a \"4294967295\"\n\"assign\" bottom define \"!=\" \"\"\nbegin\nundepend a x.o\n unrule \"$(f {)\"\n\"set\" X \"; $(q:;=|)\"\nassign \"bottom\" \">q\" != x.o\nrename a -include2\nnth  0  append  \"override\"  \"\"\n", Ok (on_line 1 (Apply (RemoveLines (OfAssign None (codes "CC")))) ∷ on_line 2 (Apply (RemoveLines (OfRecipe None (codes "a") (ByNumber 4294967295)))) ∷ on_line 3 (Apply (AddLine Bottom (NewAssign (codes "define") Shell []))) ∷ on_line 4 Begin ∷ on_line 5 (Apply (ChangePrereqs None (codes "a") (RemovePrereq (codes "x.o")))) ∷ on_line 6 (Apply (RemoveLines (OfRule None (codes "$(f {)")))) ∷ on_line 7 (Apply (ChangeValue (One None) (codes "X") (edits.Set (codes "; $(q:;=|)")))) ∷ on_line 8 (Apply (AddLine Bottom (NewAssign (codes ">q") Shell (codes "x.o")))) ∷ on_line 9 (Apply (RenameTarget (codes "a") (codes "-include2"))) ∷ on_line 10 (Apply (ChangeValue (One (Some 0)) (codes "override") (edits.Append []))) ∷ [])) ∷  -- random-046
    (codes "\n", Ok []) ∷  -- random-047
    (codes "set\toverride\t-include2\r\n\"set\" override \"\"\r\nunset override\r\nassign bottom endef ?= \"$(f {) 1\"\r\nunset endef\r\n", Ok (on_line 1 (Apply (ChangeValue (One None) (codes "override") (edits.Set (codes "-include2")))) ∷ on_line 2 (Apply (ChangeValue (One None) (codes "override") (edits.Set []))) ∷ on_line 3 (Apply (RemoveLines (OfAssign None (codes "override")))) ∷ on_line 4 (Apply (AddLine Bottom (NewAssign (codes "endef") Conditional (codes "$(f {) 1")))) ∷ on_line 5 (Apply (RemoveLines (OfAssign None (codes "endef")))) ∷ [])) ∷  -- random-048
    (codes "\"rule\" before-var .RECIPEPREFIX ${g(} :: \"t .PHONY\"", Ok (on_line 1 (Apply (AddLine (BeforeVar None (codes ".RECIPEPREFIX")) (NewRule (codes "${g(}") Double (codes "t .PHONY")))) ∷ [])) ∷  -- random-049
    (codes "assign bottom \"e\" \":::=\" \":\"\n\"nth\"\t0\tdepend\t%.o\ta\n\"set\" .RECIPEPREFIX :\nundo\nundepend c ${c}\nend\nnth  \"1\"  \"unset\"  .RECIPEPREFIX\nredo\nbegin\nredo\nset Y \"\"\n", Ok (on_line 1 (Apply (AddLine Bottom (NewAssign (codes "e") Immediate (codes ":")))) ∷ on_line 2 (Apply (ChangePrereqs (Some 0) (codes "%.o") (AddPrereq false (codes "a")))) ∷ on_line 3 (Apply (ChangeValue (One None) (codes ".RECIPEPREFIX") (edits.Set (codes ":")))) ∷ on_line 4 Undo ∷ on_line 5 (Apply (ChangePrereqs None (codes "c") (RemovePrereq (codes "${c}")))) ∷ on_line 6 End ∷ on_line 7 (Apply (RemoveLines (OfAssign (Some 1) (codes ".RECIPEPREFIX")))) ∷ on_line 8 Redo ∷ on_line 9 Begin ∷ on_line 10 Redo ∷ on_line 11 (Apply (ChangeValue (One None) (codes "Y") (edits.Set []))) ∷ [])) ∷  -- random-050
    (codes "rename\t%.c\t\"%.c\"\nundepend a foo\nundo\nnth 001 rule before-rule ${c} \"\" :: \"\"\nunset ifdef\ndepend ${g(} $x\nundo\nnth  1  set  \"ifdef\"  c\n\"nth\"\t\"1\"\trecipe-del\t$(q:;=|)\t\"002\"\nredo\nnth 2 append \"ifdef\" \"; a\"\nundepend ${g(} $;", Ok (on_line 1 (Apply (RenameTarget (codes "%.c") (codes "%.c"))) ∷ on_line 2 (Apply (ChangePrereqs None (codes "a") (RemovePrereq (codes "foo")))) ∷ on_line 3 Undo ∷ on_line 4 (Apply (AddLine (BeforeRule (Some 1) (codes "${c}")) (NewRule [] Double []))) ∷ on_line 5 (Apply (RemoveLines (OfAssign None (codes "ifdef")))) ∷ on_line 6 (Apply (ChangePrereqs None (codes "${g(}") (AddPrereq false (codes "$x")))) ∷ on_line 7 Undo ∷ on_line 8 (Apply (ChangeValue (One (Some 1)) (codes "ifdef") (edits.Set (codes "c")))) ∷ on_line 9 (Apply (RemoveLines (OfRecipe (Some 1) (codes "$(q:;=|)") (ByNumber 2)))) ∷ on_line 10 Redo ∷ on_line 11 (Apply (ChangeValue (One (Some 2)) (codes "ifdef") (edits.Append (codes "; a")))) ∷ on_line 12 (Apply (ChangePrereqs None (codes "${g(}") (RemovePrereq (codes "$;")))) ∷ [])) ∷  -- random-051
    (codes " \"rule\" bottom \"\" \":\" \"\"\nassign bottom A \"=\" \"\\\\# $(q:;=|)\"\nassign after-var endef a.b \"::=\" \"c ;\"\nnth\t2\tset\tA\ta\\:b\nset  A  $(q:;=|)\nbegin\nset A :\nrename ${c} $(q:;=|)\n", Ok (on_line 1 (Apply (AddLine Bottom (NewRule [] Single []))) ∷ on_line 2 (Apply (AddLine Bottom (NewAssign (codes "A") Recursive (codes "\\# $(q:;=|)")))) ∷ on_line 3 (Apply (AddLine (AfterVar None (codes "endef")) (NewAssign (codes "a.b") PosixSimple (codes "c ;")))) ∷ on_line 4 (Apply (ChangeValue (One (Some 2)) (codes "A") (edits.Set (codes "a\\:b")))) ∷ on_line 5 (Apply (ChangeValue (One None) (codes "A") (edits.Set (codes "$(q:;=|)")))) ∷ on_line 6 Begin ∷ on_line 7 (Apply (ChangeValue (One None) (codes "A") (edits.Set (codes ":")))) ∷ on_line 8 (Apply (RenameTarget (codes "${c}") (codes "$(q:;=|)"))) ∷ [])) ∷  -- random-052
    (codes "end\nnth\t4294967295\tdepend-order\t%.o\t$$\nrule bottom ${c} :: \"\"\nnth\t0\trecipe\t${c}\tx\nassign  before-rule  ${c}  \"-x_9\"  :::=  \"${c}\"\ndepend  \"$(p #)\"  $(s\\)\nundo\nrule\tbottom\tt\t::\t\"a\"\nundepend t a\n", Ok (on_line 1 End ∷ on_line 2 (Apply (ChangePrereqs (Some 4294967295) (codes "%.o") (AddPrereq true (codes "$$")))) ∷ on_line 3 (Apply (AddLine Bottom (NewRule (codes "${c}") Double []))) ∷ on_line 4 (Apply (AddRecipe (Some 0) (codes "${c}") Last (codes "x"))) ∷ on_line 5 (Apply (AddLine (BeforeRule None (codes "${c}")) (NewAssign (codes "-x_9") Immediate (codes "${c}")))) ∷ on_line 6 (Apply (ChangePrereqs None (codes "$(p #)") (AddPrereq false (codes "$(s\\)")))) ∷ on_line 7 Undo ∷ on_line 8 (Apply (AddLine Bottom (NewRule (codes "t") Double (codes "a")))) ∷ on_line 9 (Apply (ChangePrereqs None (codes "t") (RemovePrereq (codes "a")))) ∷ [])) ∷  -- random-053
    (codes "undepend \"%.o\" \"$(f {)\"\n\"rule\" before-rule %.o \"a\\\\ b\" :: \"$$ %.c\"\n\"nth\" \"1\" recipe .PHONY cÿ\nundo\nredo\nset \"override\" $$\nnth\t2\tunset\t\"override\"\nrecipe\t.PHONY\tq:=1\n", Ok (on_line 1 (Apply (ChangePrereqs None (codes "%.o") (RemovePrereq (codes "$(f {)")))) ∷ on_line 2 (Apply (AddLine (BeforeRule None (codes "%.o")) (NewRule (codes "a\\ b") Double (codes "$$ %.c")))) ∷ on_line 3 (Apply (AddRecipe (Some 1) (codes ".PHONY") Last (codes "cÿ"))) ∷ on_line 4 Undo ∷ on_line 5 Redo ∷ on_line 6 (Apply (ChangeValue (One None) (codes "override") (edits.Set (codes "$$")))) ∷ on_line 7 (Apply (RemoveLines (OfAssign (Some 2) (codes "override")))) ∷ on_line 8 (Apply (AddRecipe None (codes ".PHONY") Last (codes "q:=1"))) ∷ [])) ∷  -- random-054
    []

answers_1 : map (λ row. read_script row.0) rows_1 ≡ map (λ row. row.1) rows_1
unfolding line_len lines_from
answers_1 = refl

abbrev rows_2 : List (List ℕ × Result (List Step) ℕ)
rows_2 =
    (codes "rule bottom \"${g(}\" :: \"$(p #)\"\n\"assign\" bottom >q ::= \"$(p #)\"\nassign bottom a.b = \"\"\nundo\nunrule ${g(}\nfrob\n\"rule\" bottom $(s\\) :: \"$(a b)\"\n nth \"2\" rule before-rule $(s\\) \"a .PHONY\" \":\" $$\n\"depend\"\t$(s\\)\t\"%.c\"\nrecipe $(s\\) \"$(\"\n", Err 6) ∷  -- random-055
    (codes "rule bottom \"\" :: %.o\n nth 001 unset \"ifdf\"\nassign  \"bottom\"  e  !=  .PHONY\nnth 2 assign \"after-var\" override >q :::= \"foo\"\n rule bottom \"\" \"::\" $x\nrecipe-del $(s\\) 002\nrule\tbefore-var\te\tc\t::\t\"\"", Ok (on_line 1 (Apply (AddLine Bottom (NewRule [] Double (codes "%.o")))) ∷ on_line 2 (Apply (RemoveLines (OfAssign (Some 1) (codes "ifdf")))) ∷ on_line 3 (Apply (AddLine Bottom (NewAssign (codes "e") Shell (codes ".PHONY")))) ∷ on_line 4 (Apply (AddLine (AfterVar (Some 2) (codes "override")) (NewAssign (codes ">q") Immediate (codes "foo")))) ∷ on_line 5 (Apply (AddLine Bottom (NewRule [] Double (codes "$x")))) ∷ on_line 6 (Apply (RemoveLines (OfRecipe None (codes "$(s\\)") (ByNumber 2)))) ∷ on_line 7 (Apply (AddLine (BeforeVar None (codes "e")) (NewRule (codes "c") Double []))) ∷ [])) ∷  -- random-056
    (codes "begin\ndepend-order t \"-include2\"\nundo\nrename $(s\\) $x\nbegin\nassign bottom endef := 1\n", Ok (on_line 1 Begin ∷ on_line 2 (Apply (ChangePrereqs None (codes "t") (AddPrereq true (codes "-include2")))) ∷ on_line 3 Undo ∷ on_line 4 (Apply (RenameTarget (codes "$(s\\)") (codes "$x"))) ∷ on_line 5 Begin ∷ on_line 6 (Apply (AddLine Bottom (NewAssign (codes "endef") Simple (codes "1")))) ∷ [])) ∷  -- random-057
    (codes "rename \"$(p #)\" \"%.c\"\nrule bottom \"-include2\" \"::\" \"\"\nnth 1 recipe -include2 x\n rule before-rule -include2 $(q:;=|) \"::\" \"$(q:;=|)\"\nunrule $(q:;=|)\nunrule -include2\nundo\nrecipe-set -include2 1 \"\tb\"\n\"assign\" before-rule \"$(f {)\" CC := \"$(q:;=|) 2 3\"\n", Ok (on_line 1 (Apply (RenameTarget (codes "$(p #)") (codes "%.c"))) ∷ on_line 2 (Apply (AddLine Bottom (NewRule (codes "-include2") Double []))) ∷ on_line 3 (Apply (AddRecipe (Some 1) (codes "-include2") Last (codes "x"))) ∷ on_line 4 (Apply (AddLine (BeforeRule None (codes "-include2")) (NewRule (codes "$(q:;=|)") Double (codes "$(q:;=|)")))) ∷ on_line 5 (Apply (RemoveLines (OfRule None (codes "$(q:;=|)")))) ∷ on_line 6 (Apply (RemoveLines (OfRule None (codes "-include2")))) ∷ on_line 7 Undo ∷ on_line 8 (Apply (SetRecipe None (codes "-include2") (ByNumber 1) (codes "\tb"))) ∷ on_line 9 (Apply (AddLine (BeforeRule None (codes "$(f {)")) (NewAssign (codes "CC") Simple (codes "$(q:;=|) 2 3")))) ∷ [])) ∷  -- random-058
    (codes "\"rule\" bottom $(s\\) :: \"c $$\"\nnth\t001\tundepend\t$(s\\)\t$$\n\"depend\" \"$(s\\\\)\" x.o\nassign before-rule \"$(s\\\\)\" e ::= \"\"\nredo\n nth 2 unset e\n", Ok (on_line 1 (Apply (AddLine Bottom (NewRule (codes "$(s\\)") Double (codes "c $$")))) ∷ on_line 2 (Apply (ChangePrereqs (Some 1) (codes "$(s\\)") (RemovePrereq (codes "$$")))) ∷ on_line 3 (Apply (ChangePrereqs None (codes "$(s\\)") (AddPrereq false (codes "x.o")))) ∷ on_line 4 (Apply (AddLine (BeforeRule None (codes "$(s\\)")) (NewAssign (codes "e") PosixSimple []))) ∷ on_line 5 Redo ∷ on_line 6 (Apply (RemoveLines (OfAssign (Some 2) (codes "e")))) ∷ [])) ∷  -- random-059
    (codes "recipe-del foo 1\nunset >q\nset >q t\nrule\tbottom\t$(s\\)\t::\t\"${g(} t\"\nappend\t>q\t$(q:;=|)\n\"rule\" before-rule %.o b : $(q:;=|)\n", Ok (on_line 1 (Apply (RemoveLines (OfRecipe None (codes "foo") (ByNumber 1)))) ∷ on_line 2 (Apply (RemoveLines (OfAssign None (codes ">q")))) ∷ on_line 3 (Apply (ChangeValue (One None) (codes ">q") (edits.Set (codes "t")))) ∷ on_line 4 (Apply (AddLine Bottom (NewRule (codes "$(s\\)") Double (codes "${g(} t")))) ∷ on_line 5 (Apply (ChangeValue (One None) (codes ">q") (edits.Append (codes "$(q:;=|)")))) ∷ on_line 6 (Apply (AddLine (BeforeRule None (codes "%.o")) (NewRule (codes "b") Single (codes "$(q:;=|)")))) ∷ [])) ∷  -- random-060
    (codes "undo\nassign bottom e \":=\" \"\\\\#\"\n\"unset\" e\nrule bottom \"\" : \"\"\nundo\nundo\nbegin\ncancel\n", Ok (on_line 1 Undo ∷ on_line 2 (Apply (AddLine Bottom (NewAssign (codes "e") Simple (codes "\\#")))) ∷ on_line 3 (Apply (RemoveLines (OfAssign None (codes "e")))) ∷ on_line 4 (Apply (AddLine Bottom (NewRule [] Single []))) ∷ on_line 5 Undo ∷ on_line 6 Undo ∷ on_line 7 Begin ∷ on_line 8 Cancel ∷ [])) ∷  -- random-061
    (codes "rule before-var >q e$#f :: \"$$ .PHONY\"\nundo\nnth 002 append .RECIPEPREFIX %.c\n\"set\" >q \"2 3\"\nset >q \"\"\nunset >q\nappend .RECIPEPREFIX \"$(p #)\"\n rule \"after-var\" \".RECIPEPREFIX\" \"$(q:;=|) ${g(}\" \"::\" \"$(a b) b\"\nend\nset >q \"\"\n", Ok (on_line 1 (Apply (AddLine (BeforeVar None (codes ">q")) (NewRule (codes "e$#f") Double (codes "$$ .PHONY")))) ∷ on_line 2 Undo ∷ on_line 3 (Apply (ChangeValue (One (Some 2)) (codes ".RECIPEPREFIX") (edits.Append (codes "%.c")))) ∷ on_line 4 (Apply (ChangeValue (One None) (codes ">q") (edits.Set (codes "2 3")))) ∷ on_line 5 (Apply (ChangeValue (One None) (codes ">q") (edits.Set []))) ∷ on_line 6 (Apply (RemoveLines (OfAssign None (codes ">q")))) ∷ on_line 7 (Apply (ChangeValue (One None) (codes ".RECIPEPREFIX") (edits.Append (codes "$(p #)")))) ∷ on_line 8 (Apply (AddLine (AfterVar None (codes ".RECIPEPREFIX")) (NewRule (codes "$(q:;=|) ${g(}") Double (codes "$(a b) b")))) ∷ on_line 9 End ∷ on_line 10 (Apply (ChangeValue (One None) (codes ">q") (edits.Set []))) ∷ [])) ∷  -- random-062
    (codes "undo\r\nundo\r\nbegin\r\nundo\r\n recipe-set %.c 001 \"q:=1\"\r\nunrule \"%.c\"\r\n", Ok (on_line 1 Undo ∷ on_line 2 Undo ∷ on_line 3 Begin ∷ on_line 4 Undo ∷ on_line 5 (Apply (SetRecipe None (codes "%.c") (ByNumber 1) (codes "q:=1"))) ∷ on_line 6 (Apply (RemoveLines (OfRule None (codes "%.c")))) ∷ [])) ∷  -- random-063
    (codes "nth 1 set Y %.o\r\nredo\r\n \"nth\" 2 undepend \"$$\" a&b\r\nappend Y %.c\r\nredo\r\nundo\r\n\"nth\" 4294967295 unrule $(q:;=|)\r\nbegin\r\n", Ok (on_line 1 (Apply (ChangeValue (One (Some 1)) (codes "Y") (edits.Set (codes "%.o")))) ∷ on_line 2 Redo ∷ on_line 3 (Apply (ChangePrereqs (Some 2) (codes "$$") (RemovePrereq (codes "a&b")))) ∷ on_line 4 (Apply (ChangeValue (One None) (codes "Y") (edits.Append (codes "%.c")))) ∷ on_line 5 Redo ∷ on_line 6 Undo ∷ on_line 7 (Apply (RemoveLines (OfRule (Some 4294967295) (codes "$(q:;=|)")))) ∷ on_line 8 Begin ∷ [])) ∷  -- random-064
    (codes "assign bottom override = \"$x\"\r\n\"set\" override \";\"\r\nbegin\r\nset override a\\:b\r\nundo\r\n \"nth\" 4294967295 set A c\r\nset A \"$(s\\\\) \\\\$x\"\r\nnth 0 rule after-var override t : a\r\n\"nth\" 1 set \"override\" \"${c}\"\r\n rule  after-var  override  \"\"  :  \"a&b ${c}\"\r\nset override \"foo\"\r\n", Ok (on_line 1 (Apply (AddLine Bottom (NewAssign (codes "override") Recursive (codes "$x")))) ∷ on_line 2 (Apply (ChangeValue (One None) (codes "override") (edits.Set (codes ";")))) ∷ on_line 3 Begin ∷ on_line 4 (Apply (ChangeValue (One None) (codes "override") (edits.Set (codes "a\\:b")))) ∷ on_line 5 Undo ∷ on_line 6 (Apply (ChangeValue (One (Some 4294967295)) (codes "A") (edits.Set (codes "c")))) ∷ on_line 7 (Apply (ChangeValue (One None) (codes "A") (edits.Set (codes "$(s\\) \\$x")))) ∷ on_line 8 (Apply (AddLine (AfterVar (Some 0) (codes "override")) (NewRule (codes "t") Single (codes "a")))) ∷ on_line 9 (Apply (ChangeValue (One (Some 1)) (codes "override") (edits.Set (codes "${c}")))) ∷ on_line 10 (Apply (AddLine (AfterVar None (codes "override")) (NewRule [] Single (codes "a&b ${c}")))) ∷ on_line 11 (Apply (ChangeValue (One None) (codes "override") (edits.Set (codes "foo")))) ∷ [])) ∷  -- random-065
    (codes "rule bottom \"c $(s\\\\)\" \":\" \"%.c $=\"\nrule bottom \"\" : \"\"\ndepend-order \"$(s\\\\)\" \"$x\"\nrecipe  $(s\\)  x\nrecipe-del  $(s\\)  001\nrecipe\t$(s\\)\tcÿ\nassign \"before-rule\" $(s\\) t1 := a&b\nrecipe-set $(s\\) 1 define\nnth 1 \"append\" t1 \"1 a\"\nbegin\n", Ok (on_line 1 (Apply (AddLine Bottom (NewRule (codes "c $(s\\)") Single (codes "%.c $=")))) ∷ on_line 2 (Apply (AddLine Bottom (NewRule [] Single []))) ∷ on_line 3 (Apply (ChangePrereqs None (codes "$(s\\)") (AddPrereq true (codes "$x")))) ∷ on_line 4 (Apply (AddRecipe None (codes "$(s\\)") Last (codes "x"))) ∷ on_line 5 (Apply (RemoveLines (OfRecipe None (codes "$(s\\)") (ByNumber 1)))) ∷ on_line 6 (Apply (AddRecipe None (codes "$(s\\)") Last (codes "cÿ"))) ∷ on_line 7 (Apply (AddLine (BeforeRule None (codes "$(s\\)")) (NewAssign (codes "t1") Simple (codes "a&b")))) ∷ on_line 8 (Apply (SetRecipe None (codes "$(s\\)") (ByNumber 1) (codes "define"))) ∷ on_line 9 (Apply (ChangeValue (One (Some 1)) (codes "t1") (edits.Append (codes "1 a")))) ∷ on_line 10 Begin ∷ [])) ∷  -- random-066
    (codes "end\r\nappend\ta.b\t\"\"\r\nend\r\nrecipe-del %.c 4294967295\r\nbegin\r\nredo\r\nassign after-var a.b a.b ::= \"a&b\"\r\n nth 1 \"append\" a.b \"$(a b) 1\"\r\nunrule %.o\r\n", Ok (on_line 1 End ∷ on_line 2 (Apply (ChangeValue (One None) (codes "a.b") (edits.Append []))) ∷ on_line 3 End ∷ on_line 4 (Apply (RemoveLines (OfRecipe None (codes "%.c") (ByNumber 4294967295)))) ∷ on_line 5 Begin ∷ on_line 6 Redo ∷ on_line 7 (Apply (AddLine (AfterVar None (codes "a.b")) (NewAssign (codes "a.b") PosixSimple (codes "a&b")))) ∷ on_line 8 (Apply (ChangeValue (One (Some 1)) (codes "a.b") (edits.Append (codes "$(a b) 1")))) ∷ on_line 9 (Apply (RemoveLines (OfRule None (codes "%.o")))) ∷ [])) ∷  -- random-067
    (codes "unrule a\r\nunset A\r\nundepend foo %.o", Ok (on_line 1 (Apply (RemoveLines (OfRule None (codes "a")))) ∷ on_line 2 (Apply (RemoveLines (OfAssign None (codes "A")))) ∷ on_line 3 (Apply (ChangePrereqs None (codes "foo") (RemovePrereq (codes "%.o")))) ∷ [])) ∷  -- random-068
    (codes "recipe-del \"$(p #)\" 4294967295\nrecipe-del \"$(f {)\" 000\nnth 1 undepend $$ ${g(}\nundo\nnth \"002\" unrule \"$(f {)\"\nrecipe \"$(p #)\" \"\tb\"\ndepend \"$(p #)\" \"$(a b)\"\n\"append\" a.b :\n\"recipe-del\" $$ 1\n\"append\" \"a.b\" \"t foo\"\nassign before-var >q A \":::=\" \"\"\nrename \"$(a b)\" ${g(}", Ok (on_line 1 (Apply (RemoveLines (OfRecipe None (codes "$(p #)") (ByNumber 4294967295)))) ∷ on_line 2 (Apply (RemoveLines (OfRecipe None (codes "$(f {)") (ByNumber 0)))) ∷ on_line 3 (Apply (ChangePrereqs (Some 1) (codes "$$") (RemovePrereq (codes "${g(}")))) ∷ on_line 4 Undo ∷ on_line 5 (Apply (RemoveLines (OfRule (Some 2) (codes "$(f {)")))) ∷ on_line 6 (Apply (AddRecipe None (codes "$(p #)") Last (codes "\tb"))) ∷ on_line 7 (Apply (ChangePrereqs None (codes "$(p #)") (AddPrereq false (codes "$(a b)")))) ∷ on_line 8 (Apply (ChangeValue (One None) (codes "a.b") (edits.Append (codes ":")))) ∷ on_line 9 (Apply (RemoveLines (OfRecipe None (codes "$$") (ByNumber 1)))) ∷ on_line 10 (Apply (ChangeValue (One None) (codes "a.b") (edits.Append (codes "t foo")))) ∷ on_line 11 (Apply (AddLine (BeforeVar None (codes ">q")) (NewAssign (codes "A") Immediate []))) ∷ on_line 12 (Apply (RenameTarget (codes "$(a b)") (codes "${g(}"))) ∷ [])) ∷  -- random-069
    (codes "undo\nassign bottom CC ::= \"\"\n", Ok (on_line 1 Undo ∷ on_line 2 (Apply (AddLine Bottom (NewAssign (codes "CC") PosixSimple []))) ∷ [])) ∷  -- random-070
    (codes "recipe-set \"$(f {)\" 1 \"e f \\\\ g\"\nnth 4294967295 rule before-rule \"$(f {)\" %.c \":\" \"$(s\\\\) define\"\n\"undepend\" \"$(f {)\" %.o\nassign bottom \"t\" :::= \"\"\nunset\tt\n\"recipe-set\" \"$(f {)\" 001 \"\tb\"\ndepend-order \"$(f {)\" foo", Ok (on_line 1 (Apply (SetRecipe None (codes "$(f {)") (ByNumber 1) (codes "e f \\ g"))) ∷ on_line 2 (Apply (AddLine (BeforeRule (Some 4294967295) (codes "$(f {)")) (NewRule (codes "%.c") Single (codes "$(s\\) define")))) ∷ on_line 3 (Apply (ChangePrereqs None (codes "$(f {)") (RemovePrereq (codes "%.o")))) ∷ on_line 4 (Apply (AddLine Bottom (NewAssign (codes "t") Immediate []))) ∷ on_line 5 (Apply (RemoveLines (OfAssign None (codes "t")))) ∷ on_line 6 (Apply (SetRecipe None (codes "$(f {)") (ByNumber 1) (codes "\tb"))) ∷ on_line 7 (Apply (ChangePrereqs None (codes "$(f {)") (AddPrereq true (codes "foo")))) ∷ [])) ∷  -- random-071
    (codes "unset \"X$ \"\nunset \".RECIPEPREFIX\"\nset \"X$ \" \"; %.o -include2\"\nundo\nbegin", Ok (on_line 1 (Apply (RemoveLines (OfAssign None (codes "X$ ")))) ∷ on_line 2 (Apply (RemoveLines (OfAssign None (codes ".RECIPEPREFIX")))) ∷ on_line 3 (Apply (ChangeValue (One None) (codes "X$ ") (edits.Set (codes "; %.o -include2")))) ∷ on_line 4 Undo ∷ on_line 5 Begin ∷ [])) ∷  -- random-072
    (codes "\"rename\" t \"$(a b)\"\n", Ok (on_line 1 (Apply (RenameTarget (codes "t") (codes "$(a b)"))) ∷ [])) ∷  -- random-074
    (codes "recipe \"${g(}\" cÿ\n\"recipe\" ${g(} \"t\"\n\"assign\" before-var .RECIPEPREFIX \"t1\" \":::=\" \"\"\nend\n", Ok (on_line 1 (Apply (AddRecipe None (codes "${g(}") Last (codes "cÿ"))) ∷ on_line 2 (Apply (AddRecipe None (codes "${g(}") Last (codes "t"))) ∷ on_line 3 (Apply (AddLine (BeforeVar None (codes ".RECIPEPREFIX")) (NewAssign (codes "t1") Immediate []))) ∷ on_line 4 End ∷ [])) ∷  -- random-076
    (codes "nth 1 assign \"before-var\" define \"override\" := \"$(p #)\"\nunset override\nend\nnth 4294967295 \"unset\" define\nset \"define\" $#\n append define \"\"\nunset CC\nend\nset define \"\"\nunset define\nredo", Ok (on_line 1 (Apply (AddLine (BeforeVar (Some 1) (codes "define")) (NewAssign (codes "override") Simple (codes "$(p #)")))) ∷ on_line 2 (Apply (RemoveLines (OfAssign None (codes "override")))) ∷ on_line 3 End ∷ on_line 4 (Apply (RemoveLines (OfAssign (Some 4294967295) (codes "define")))) ∷ on_line 5 (Apply (ChangeValue (One None) (codes "define") (edits.Set (codes "$#")))) ∷ on_line 6 (Apply (ChangeValue (One None) (codes "define") (edits.Append []))) ∷ on_line 7 (Apply (RemoveLines (OfAssign None (codes "CC")))) ∷ on_line 8 End ∷ on_line 9 (Apply (ChangeValue (One None) (codes "define") (edits.Set []))) ∷ on_line 10 (Apply (RemoveLines (OfAssign None (codes "define")))) ∷ on_line 11 Redo ∷ [])) ∷  -- random-077
    (codes "set X$: \"a&b\"\n\"nth\" \"4294967295\" rule after-var X$: \"\" :: \"\"\nset\tifdef\tfoo\nset X$: -include2\nrule bottom $ :: \"-include2 $$\"\nappend\t\".RECIPEPREFIX\"\t\"$(a b) $(p #)\"\nassign after-var X$: define \"+=\" \"\"\nassign before-var -x_9 a.b != \"\"\nappend override $x\nundo\n", Ok (on_line 1 (Apply (ChangeValue (One None) (codes "X$:") (edits.Set (codes "a&b")))) ∷ on_line 2 (Apply (AddLine (AfterVar (Some 4294967295) (codes "X$:")) (NewRule [] Double []))) ∷ on_line 3 (Apply (ChangeValue (One None) (codes "ifdef") (edits.Set (codes "foo")))) ∷ on_line 4 (Apply (ChangeValue (One None) (codes "X$:") (edits.Set (codes "-include2")))) ∷ on_line 5 (Apply (AddLine Bottom (NewRule (codes "$") Double (codes "-include2 $$")))) ∷ on_line 6 (Apply (ChangeValue (One None) (codes ".RECIPEPREFIX") (edits.Append (codes "$(a b) $(p #)")))) ∷ on_line 7 (Apply (AddLine (AfterVar None (codes "X$:")) (NewAssign (codes "define") Append []))) ∷ on_line 8 (Apply (AddLine (BeforeVar None (codes "-x_9")) (NewAssign (codes "a.b") Shell []))) ∷ on_line 9 (Apply (ChangeValue (One None) (codes "override") (edits.Append (codes "$x")))) ∷ on_line 10 Undo ∷ [])) ∷  -- random-078
    (codes "undepend %.o $(q:;=|)\nassign bottom a.b \"::=\" ;\nundo\n", Ok (on_line 1 (Apply (ChangePrereqs None (codes "%.o") (RemovePrereq (codes "$(q:;=|)")))) ∷ on_line 2 (Apply (AddLine Bottom (NewAssign (codes "a.b") PosixSimple (codes ";")))) ∷ on_line 3 Undo ∷ [])) ∷  -- random-079
    (codes "set ifdef $(q:;=|)\r\n \"undepend\"  y  \"a&b\"\r\n\"nth\" 4294967295 \"undepend\" y foo\r\nappend X \"=a c\"\r\nnth \"2\" depend-order \"$x\" foo\r\nredo\r\nassign after-var X override \":::=\" b\r\nnth 2 unrule $x\r\nend\r\n", Ok (on_line 1 (Apply (ChangeValue (One None) (codes "ifdef") (edits.Set (codes "$(q:;=|)")))) ∷ on_line 2 (Apply (ChangePrereqs None (codes "y") (RemovePrereq (codes "a&b")))) ∷ on_line 3 (Apply (ChangePrereqs (Some 4294967295) (codes "y") (RemovePrereq (codes "foo")))) ∷ on_line 4 (Apply (ChangeValue (One None) (codes "X") (edits.Append (codes "=a c")))) ∷ on_line 5 (Apply (ChangePrereqs (Some 2) (codes "$x") (AddPrereq true (codes "foo")))) ∷ on_line 6 Redo ∷ on_line 7 (Apply (AddLine (AfterVar None (codes "X")) (NewAssign (codes "override") Immediate (codes "b")))) ∷ on_line 8 (Apply (RemoveLines (OfRule (Some 2) (codes "$x")))) ∷ on_line 9 End ∷ [])) ∷  -- random-080
    (codes "begin\r\nnth 000 recipe-set >t 2 $(\r\n\"assign\"\t\"bottom\"\t-x_9\t:=\t\"$(f {)\"\r\nunset -x_9\r\nundo", Ok (on_line 1 Begin ∷ on_line 2 (Apply (SetRecipe (Some 0) (codes ">t") (ByNumber 2) (codes "$("))) ∷ on_line 3 (Apply (AddLine Bottom (NewAssign (codes "-x_9") Simple (codes "$(f {)")))) ∷ on_line 4 (Apply (RemoveLines (OfAssign None (codes "-x_9")))) ∷ on_line 5 Undo ∷ [])) ∷  -- random-081
    (codes "rule \"bottom\" \"a&b\" : ${c}\ndepend a&b $(q:;=|)\nundo\nundepend \"${g(}\" ${c}\nrename ${c} $(s\\)\n nth 4294967295 recipe-set \"a&b\" 2 \" a\"\nnth \"1\" unrule a&b\nassign bottom a.b := $$\nassign\t\"bottom\"\tendef\t+=\t$x\nassign\t\"after-var\"\ta.b\t\"t1\"\t:=\t\"b\"\nbegin\nassign bottom endef += \"\"\n", Ok (on_line 1 (Apply (AddLine Bottom (NewRule (codes "a&b") Single (codes "${c}")))) ∷ on_line 2 (Apply (ChangePrereqs None (codes "a&b") (AddPrereq false (codes "$(q:;=|)")))) ∷ on_line 3 Undo ∷ on_line 4 (Apply (ChangePrereqs None (codes "${g(}") (RemovePrereq (codes "${c}")))) ∷ on_line 5 (Apply (RenameTarget (codes "${c}") (codes "$(s\\)"))) ∷ on_line 6 (Apply (SetRecipe (Some 4294967295) (codes "a&b") (ByNumber 2) (codes " a"))) ∷ on_line 7 (Apply (RemoveLines (OfRule (Some 1) (codes "a&b")))) ∷ on_line 8 (Apply (AddLine Bottom (NewAssign (codes "a.b") Simple (codes "$$")))) ∷ on_line 9 (Apply (AddLine Bottom (NewAssign (codes "endef") Append (codes "$x")))) ∷ on_line 10 (Apply (AddLine (AfterVar None (codes "a.b")) (NewAssign (codes "t1") Simple (codes "b")))) ∷ on_line 11 Begin ∷ on_line 12 (Apply (AddLine Bottom (NewAssign (codes "endef") Append []))) ∷ [])) ∷  -- random-082
    (codes "recipe-del \"$(f {)\" 0\r\nnth \"0\" append \"Y\" \"\"\r\nrecipe-del \"$(f {)\" \"001\"\r\n depend-order \"$(f {)\" a\r\nunset -x_9\r\n\"nth\" 2 unset Y\r\nrecipe-del \"$(f {)\" 000\r\nnth  1  depend-order  \"$(f {)\"  .PHONY\r\nnth 4294967295 append Y \"%.c\"\r\nrecipe-del \"$(f {)\" 002", Ok (on_line 1 (Apply (RemoveLines (OfRecipe None (codes "$(f {)") (ByNumber 0)))) ∷ on_line 2 (Apply (ChangeValue (One (Some 0)) (codes "Y") (edits.Append []))) ∷ on_line 3 (Apply (RemoveLines (OfRecipe None (codes "$(f {)") (ByNumber 1)))) ∷ on_line 4 (Apply (ChangePrereqs None (codes "$(f {)") (AddPrereq true (codes "a")))) ∷ on_line 5 (Apply (RemoveLines (OfAssign None (codes "-x_9")))) ∷ on_line 6 (Apply (RemoveLines (OfAssign (Some 2) (codes "Y")))) ∷ on_line 7 (Apply (RemoveLines (OfRecipe None (codes "$(f {)") (ByNumber 0)))) ∷ on_line 8 (Apply (ChangePrereqs (Some 1) (codes "$(f {)") (AddPrereq true (codes ".PHONY")))) ∷ on_line 9 (Apply (ChangeValue (One (Some 4294967295)) (codes "Y") (edits.Append (codes "%.c")))) ∷ on_line 10 (Apply (RemoveLines (OfRecipe None (codes "$(f {)") (ByNumber 2)))) ∷ [])) ∷  -- random-083
    (codes "\"nth\" 4294967295 \"append\" \"A\" \"\"\r\n \"rename\" %.o \"$(f {)\"\r\n\"recipe\" $$ \"y # z\"\r\nbegin\r\nredo\r\nredo\r\ndepend \"a\" $$\r\nnth 1 \"depend\" -include2 \"$$\"\r\nundo\r\nset  A  \"; $(f {)\"\r\n\"rename\"  $$  \"$x\"\r\n \"nth\" 0 set A \"2 3 a&b\"", Ok (on_line 1 (Apply (ChangeValue (One (Some 4294967295)) (codes "A") (edits.Append []))) ∷ on_line 2 (Apply (RenameTarget (codes "%.o") (codes "$(f {)"))) ∷ on_line 3 (Apply (AddRecipe None (codes "$$") Last (codes "y # z"))) ∷ on_line 4 Begin ∷ on_line 5 Redo ∷ on_line 6 Redo ∷ on_line 7 (Apply (ChangePrereqs None (codes "a") (AddPrereq false (codes "$$")))) ∷ on_line 8 (Apply (ChangePrereqs (Some 1) (codes "-include2") (AddPrereq false (codes "$$")))) ∷ on_line 9 Undo ∷ on_line 10 (Apply (ChangeValue (One None) (codes "A") (edits.Set (codes "; $(f {)")))) ∷ on_line 11 (Apply (RenameTarget (codes "$$") (codes "$x"))) ∷ on_line 12 (Apply (ChangeValue (One (Some 0)) (codes "A") (edits.Set (codes "2 3 a&b")))) ∷ [])) ∷  -- random-084
    (codes "unrule $$\r\nnth\t2\t\"unset\"\tX\r\nrename x.o \".PHONY\"\r\nrename .PHONY \"-include2\"\r\nundepend \"%.c\" b\r\n\"set\" X c\r\nredo\r\nbegin\r\nnth\t1\tappend\tX\t\"\"\r\n", Ok (on_line 1 (Apply (RemoveLines (OfRule None (codes "$$")))) ∷ on_line 2 (Apply (RemoveLines (OfAssign (Some 2) (codes "X")))) ∷ on_line 3 (Apply (RenameTarget (codes "x.o") (codes ".PHONY"))) ∷ on_line 4 (Apply (RenameTarget (codes ".PHONY") (codes "-include2"))) ∷ on_line 5 (Apply (ChangePrereqs None (codes "%.c") (RemovePrereq (codes "b")))) ∷ on_line 6 (Apply (ChangeValue (One None) (codes "X") (edits.Set (codes "c")))) ∷ on_line 7 Redo ∷ on_line 8 Begin ∷ on_line 9 (Apply (ChangeValue (One (Some 1)) (codes "X") (edits.Append []))) ∷ [])) ∷  -- random-085
    (codes "undo\n unrule \"$(a b)\"\nassign bottom t1 != \"b\"\nend\nrecipe-set b \"4294967295\" \"\"\nredo", Ok (on_line 1 Undo ∷ on_line 2 (Apply (RemoveLines (OfRule None (codes "$(a b)")))) ∷ on_line 3 (Apply (AddLine Bottom (NewAssign (codes "t1") Shell (codes "b")))) ∷ on_line 4 End ∷ on_line 5 (Apply (SetRecipe None (codes "b") (ByNumber 4294967295) [])) ∷ on_line 6 Redo ∷ [])) ∷  -- random-086
    (codes "assign bottom Y \"::=\" t\nredo\n\"rule\"\tbottom\t\"$$ t\"\t:\t\"\"\nrule bottom foo : \"$(f {) c\"\nunrule  $$", Ok (on_line 1 (Apply (AddLine Bottom (NewAssign (codes "Y") PosixSimple (codes "t")))) ∷ on_line 2 Redo ∷ on_line 3 (Apply (AddLine Bottom (NewRule (codes "$$ t") Single []))) ∷ on_line 4 (Apply (AddLine Bottom (NewRule (codes "foo") Single (codes "$(f {) c")))) ∷ on_line 5 (Apply (RemoveLines (OfRule None (codes "$$")))) ∷ [])) ∷  -- random-087
    (codes " \"unset\" \"ifdef\"\nrecipe-set %.c 2 define\nset X \"\"\n\"assign\" after-var X -x_9 != ${g(}\nredo\nrecipe-del a 1\nredo\nredo\n", Ok (on_line 1 (Apply (RemoveLines (OfAssign None (codes "ifdef")))) ∷ on_line 2 (Apply (SetRecipe None (codes "%.c") (ByNumber 2) (codes "define"))) ∷ on_line 3 (Apply (ChangeValue (One None) (codes "X") (edits.Set []))) ∷ on_line 4 (Apply (AddLine (AfterVar None (codes "X")) (NewAssign (codes "-x_9") Shell (codes "${g(}")))) ∷ on_line 5 Redo ∷ on_line 6 (Apply (RemoveLines (OfRecipe None (codes "a") (ByNumber 1)))) ∷ on_line 7 Redo ∷ on_line 8 Redo ∷ [])) ∷  -- random-088
    (codes "rename  ${c}  ${g(}\nend\nassign \"before-rule\" $; \"override\" \":::=\" \"\"\n", Ok (on_line 1 (Apply (RenameTarget (codes "${c}") (codes "${g(}"))) ∷ on_line 2 End ∷ on_line 3 (Apply (AddLine (BeforeRule None (codes "$;")) (NewAssign (codes "override") Immediate []))) ∷ [])) ∷  -- random-089
    (codes "\"rule\" bottom x.o : x.o\ndepend-order x.o \"$(f {)\"\nnth  4294967295  \"recipe\"  x.o  \"\tb\"\nnth 4294967295 depend-order x.o \"$(a b)\"\nnth 1 depend foo $(q:;=|)\nend\nredo\nassign bottom \"CC\" ?= \"%.c\"\nnth 1 append \"CC\" \"%.o x.o\"\nbegin\nrecipe-set \"x.o\" 001 x\nnth 0 \"recipe-set\" \"x.o\" 0 q:=1\n", Ok (on_line 1 (Apply (AddLine Bottom (NewRule (codes "x.o") Single (codes "x.o")))) ∷ on_line 2 (Apply (ChangePrereqs None (codes "x.o") (AddPrereq true (codes "$(f {)")))) ∷ on_line 3 (Apply (AddRecipe (Some 4294967295) (codes "x.o") Last (codes "\tb"))) ∷ on_line 4 (Apply (ChangePrereqs (Some 4294967295) (codes "x.o") (AddPrereq true (codes "$(a b)")))) ∷ on_line 5 (Apply (ChangePrereqs (Some 1) (codes "foo") (AddPrereq false (codes "$(q:;=|)")))) ∷ on_line 6 End ∷ on_line 7 Redo ∷ on_line 8 (Apply (AddLine Bottom (NewAssign (codes "CC") Conditional (codes "%.c")))) ∷ on_line 9 (Apply (ChangeValue (One (Some 1)) (codes "CC") (edits.Append (codes "%.o x.o")))) ∷ on_line 10 Begin ∷ on_line 11 (Apply (SetRecipe None (codes "x.o") (ByNumber 1) (codes "x"))) ∷ on_line 12 (Apply (SetRecipe (Some 0) (codes "x.o") (ByNumber 0) (codes "q:=1"))) ∷ [])) ∷  -- random-091
    (codes "recipe $(q:;=|) \"q:=1\"\r\n recipe $(q:;=|) q:=1\r\nset X \"a\"b\r\nunrule $(q:;=|)", Err 3) ∷  -- random-092
    (codes "set Y \"$(p #)\"\nbegin\nundo", Ok (on_line 1 (Apply (ChangeValue (One None) (codes "Y") (edits.Set (codes "$(p #)")))) ∷ on_line 2 Begin ∷ on_line 3 Undo ∷ [])) ∷  -- random-093
    (codes "\"nth\"\t0\tset\t\"endef\"\t\"b $(s\\\\)\"\n", Ok (on_line 1 (Apply (ChangeValue (One (Some 0)) (codes "endef") (edits.Set (codes "b $(s\\)")))) ∷ [])) ∷  -- random-094
    (codes "assign after-var >q -x_9 \":=\" \"$$ $#\"\nredo\nbegin\n\"assign\" bottom Y ::= .PHONY\nredo\nbegin\nbegin\nbegin\nundo\nrule  bottom  t  \":\"  ${g(}\n \"rename\" t a\n depend-order .PHONY \"$(f {)\"\n", Ok (on_line 1 (Apply (AddLine (AfterVar None (codes ">q")) (NewAssign (codes "-x_9") Simple (codes "$$ $#")))) ∷ on_line 2 Redo ∷ on_line 3 Begin ∷ on_line 4 (Apply (AddLine Bottom (NewAssign (codes "Y") PosixSimple (codes ".PHONY")))) ∷ on_line 5 Redo ∷ on_line 6 Begin ∷ on_line 7 Begin ∷ on_line 8 Begin ∷ on_line 9 Undo ∷ on_line 10 (Apply (AddLine Bottom (NewRule (codes "t") Single (codes "${g(}")))) ∷ on_line 11 (Apply (RenameTarget (codes "t") (codes "a"))) ∷ on_line 12 (Apply (ChangePrereqs None (codes ".PHONY") (AddPrereq true (codes "$(f {)")))) ∷ [])) ∷  -- random-095
    (codes "undo\r\nappend  -x_9  \"\"\r\nnth \"2\" undepend \"-include2\" b\r\nnth \"4294967295\" rule after-var \">q\" \"${g(} ${c}\" : \"$$ c\"\r\n\"unrule\" foo\r\nunset\t>Z", Ok (on_line 1 Undo ∷ on_line 2 (Apply (ChangeValue (One None) (codes "-x_9") (edits.Append []))) ∷ on_line 3 (Apply (ChangePrereqs (Some 2) (codes "-include2") (RemovePrereq (codes "b")))) ∷ on_line 4 (Apply (AddLine (AfterVar (Some 4294967295) (codes ">q")) (NewRule (codes "${g(} ${c}") Single (codes "$$ c")))) ∷ on_line 5 (Apply (RemoveLines (OfRule None (codes "foo")))) ∷ on_line 6 (Apply (RemoveLines (OfAssign None (codes ">Z")))) ∷ [])) ∷  -- random-096
    (codes "nth \"1\" \"unrule\" \"$(p #)\"\n recipe-del t 1\nredo\nrule before-rule t \"t\" \"::\" \"-include2\"\nnth 0 depend-order t a&b\n", Ok (on_line 1 (Apply (RemoveLines (OfRule (Some 1) (codes "$(p #)")))) ∷ on_line 2 (Apply (RemoveLines (OfRecipe None (codes "t") (ByNumber 1)))) ∷ on_line 3 Redo ∷ on_line 4 (Apply (AddLine (BeforeRule None (codes "t")) (NewRule (codes "t") Double (codes "-include2")))) ∷ on_line 5 (Apply (ChangePrereqs (Some 0) (codes "t") (AddPrereq true (codes "a&b")))) ∷ [])) ∷  -- random-097
    (codes " set \">q\" b\n\"assign\" bottom \"-x_9\" ?= \"\"\nend\nrule bottom b : \"\"\nrule bottom \"c\" : \"${c} $x\"\n\"rule\" bottom \"$(a b) %.c\" \":\" $(s\\)\nrule \"bottom\" \"\" \":\" -include2\nrule bottom \"$(s\\\\)\" \"::\" \"\"\ncancel", Ok (on_line 1 (Apply (ChangeValue (One None) (codes ">q") (edits.Set (codes "b")))) ∷ on_line 2 (Apply (AddLine Bottom (NewAssign (codes "-x_9") Conditional []))) ∷ on_line 3 End ∷ on_line 4 (Apply (AddLine Bottom (NewRule (codes "b") Single []))) ∷ on_line 5 (Apply (AddLine Bottom (NewRule (codes "c") Single (codes "${c} $x")))) ∷ on_line 6 (Apply (AddLine Bottom (NewRule (codes "$(a b) %.c") Single (codes "$(s\\)")))) ∷ on_line 7 (Apply (AddLine Bottom (NewRule [] Single (codes "-include2")))) ∷ on_line 8 (Apply (AddLine Bottom (NewRule (codes "$(s\\)") Double []))) ∷ on_line 9 Cancel ∷ [])) ∷  -- random-098
    (codes " \"assign\" bottom a.b := \"$(f {)\"\nrule after-var \"a.b\" -include2 : \"e$#f $(s\\\\)\"\nrecipe  -include2  define\nend\n append a.b $(q:;=|)\nredo\nbegin\nappend\ta.b\t\"a&b\"\nbegin\nredo\nredo\n\"rename\" $(s\\) x.o\n", Ok (on_line 1 (Apply (AddLine Bottom (NewAssign (codes "a.b") Simple (codes "$(f {)")))) ∷ on_line 2 (Apply (AddLine (AfterVar None (codes "a.b")) (NewRule (codes "-include2") Single (codes "e$#f $(s\\)")))) ∷ on_line 3 (Apply (AddRecipe None (codes "-include2") Last (codes "define"))) ∷ on_line 4 End ∷ on_line 5 (Apply (ChangeValue (One None) (codes "a.b") (edits.Append (codes "$(q:;=|)")))) ∷ on_line 6 Redo ∷ on_line 7 Begin ∷ on_line 8 (Apply (ChangeValue (One None) (codes "a.b") (edits.Append (codes "a&b")))) ∷ on_line 9 Begin ∷ on_line 10 Redo ∷ on_line 11 Redo ∷ on_line 12 (Apply (RenameTarget (codes "$(s\\)") (codes "x.o"))) ∷ [])) ∷  -- random-099
    (codes "nth 1 recipe-set y 1 \"define\"\r\n\"unrule\" a\r\n", Ok (on_line 1 (Apply (SetRecipe (Some 1) (codes "y") (ByNumber 1) (codes "define"))) ∷ on_line 2 (Apply (RemoveLines (OfRule None (codes "a")))) ∷ [])) ∷  -- random-100
    (codes "nth 002 append A \"\"\nrule before-var A -include2 : \"\"\nundo\n\"unset\" endef\nend\ncancel\n\"unset\"\t\"A\"\nrule\tbottom\t\"foo\"\t:\t\"\"\ndepend $$ foo\n", Ok (on_line 1 (Apply (ChangeValue (One (Some 2)) (codes "A") (edits.Append []))) ∷ on_line 2 (Apply (AddLine (BeforeVar None (codes "A")) (NewRule (codes "-include2") Single []))) ∷ on_line 3 Undo ∷ on_line 4 (Apply (RemoveLines (OfAssign None (codes "endef")))) ∷ on_line 5 End ∷ on_line 6 Cancel ∷ on_line 7 (Apply (RemoveLines (OfAssign None (codes "A")))) ∷ on_line 8 (Apply (AddLine Bottom (NewRule (codes "foo") Single []))) ∷ on_line 9 (Apply (ChangePrereqs None (codes "$$") (AddPrereq false (codes "foo")))) ∷ [])) ∷  -- random-101
    (codes "nth \"0\" append ifde c\nappend ifde \"2 3\"\nend\nappend ifde $(q:;=|)\n\"append\" a.b \"\"\nnth 0 set ifde \"$(q:;=|) ${g(}\"\nnth 1 begin\n", Err 7) ∷  -- random-102
    (codes "\"nth\"  001  set  >q  \\#\nassign after-var >q define += \"2 3\"\nappend \">q\" .PHONY\nunset >q\nunset >q\n\"nth\" 1 set >q \"$(a b)\"\n\"nth\"  1  unset  \">q\"\nbegin\nset >q \"${c} a\"\n", Ok (on_line 1 (Apply (ChangeValue (One (Some 1)) (codes ">q") (edits.Set (codes "\\#")))) ∷ on_line 2 (Apply (AddLine (AfterVar None (codes ">q")) (NewAssign (codes "define") Append (codes "2 3")))) ∷ on_line 3 (Apply (ChangeValue (One None) (codes ">q") (edits.Append (codes ".PHONY")))) ∷ on_line 4 (Apply (RemoveLines (OfAssign None (codes ">q")))) ∷ on_line 5 (Apply (RemoveLines (OfAssign None (codes ">q")))) ∷ on_line 6 (Apply (ChangeValue (One (Some 1)) (codes ">q") (edits.Set (codes "$(a b)")))) ∷ on_line 7 (Apply (RemoveLines (OfAssign (Some 1) (codes ">q")))) ∷ on_line 8 Begin ∷ on_line 9 (Apply (ChangeValue (One None) (codes ">q") (edits.Set (codes "${c} a")))) ∷ [])) ∷  -- random-103
    (codes "assign bottom X ?= \"$$ 1\"\nnth  1  \"rule\"  before-var  X  \"\"  :  .PHONY\nset\tX\t\\#\nunset X\nrecipe-del \"$(a b)\" 2\nrule bottom \"%.c\" :: \"a\"\n\"unrule\" %.c\nassign\tbottom\te\t!=\t=", Ok (on_line 1 (Apply (AddLine Bottom (NewAssign (codes "X") Conditional (codes "$$ 1")))) ∷ on_line 2 (Apply (AddLine (BeforeVar (Some 1) (codes "X")) (NewRule [] Single (codes ".PHONY")))) ∷ on_line 3 (Apply (ChangeValue (One None) (codes "X") (edits.Set (codes "\\#")))) ∷ on_line 4 (Apply (RemoveLines (OfAssign None (codes "X")))) ∷ on_line 5 (Apply (RemoveLines (OfRecipe None (codes "$(a b)") (ByNumber 2)))) ∷ on_line 6 (Apply (AddLine Bottom (NewRule (codes "%.c") Double (codes "a")))) ∷ on_line 7 (Apply (RemoveLines (OfRule None (codes "%.c")))) ∷ on_line 8 (Apply (AddLine Bottom (NewAssign (codes "e") Shell (codes "=")))) ∷ [])) ∷  -- random-104
    (codes "undo\nnth\t1\tset\t.RECIPEPREFIX\t\"\"\n nth \"1\" recipe-set ( \"0\" q:=1\nrecipe-set ${g(} 0 >\nassign after-var .RECIPEPREFIX endef += \"t c\"\n", Ok (on_line 1 Undo ∷ on_line 2 (Apply (ChangeValue (One (Some 1)) (codes ".RECIPEPREFIX") (edits.Set []))) ∷ on_line 3 (Apply (SetRecipe (Some 1) (codes "(") (ByNumber 0) (codes "q:=1"))) ∷ on_line 4 (Apply (SetRecipe None (codes "${g(}") (ByNumber 0) (codes ">"))) ∷ on_line 5 (Apply (AddLine (AfterVar None (codes ".RECIPEPREFIX")) (NewAssign (codes "endef") Append (codes "t c")))) ∷ [])) ∷  -- random-105
    (codes "nth 4294967296 set X 1\r\ncancel\r\n", Err 1) ∷  -- random-106
    (codes " assign bottom t := \"%.o\"\nrule bottom $$ \"::\" $(u\nbegin", Ok (on_line 1 (Apply (AddLine Bottom (NewAssign (codes "t") Simple (codes "%.o")))) ∷ on_line 2 (Apply (AddLine Bottom (NewRule (codes "$$") Double (codes "$(u")))) ∷ on_line 3 Begin ∷ [])) ∷  -- random-108
    []

answers_2 : map (λ row. read_script row.0) rows_2 ≡ map (λ row. row.1) rows_2
unfolding line_len lines_from
answers_2 = refl

abbrev rows_3 : List (List ℕ × Result (List Step) ℕ)
rows_3 =
    (codes "recipe-set  a&b  001  \"cÿ\"\nrule \"bottom\" \"\" : ${c}\nset  override  \"\"\nrecipe\t\"$$\"\tt\nredo\nnth \"4294967295\" assign \"before-rule\" \"foo\" \"a.b\" := \"t .PHONY\"\n\"nth\" 1 undepend x.o .PHONY\nrule bottom \"t a&b\" :: \"t\"\n\"nth\"\t1\tundepend\tt\t\"t\"\ncancel\nunrule\t$(s\\)\n", Ok (on_line 1 (Apply (SetRecipe None (codes "a&b") (ByNumber 1) (codes "cÿ"))) ∷ on_line 2 (Apply (AddLine Bottom (NewRule [] Single (codes "${c}")))) ∷ on_line 3 (Apply (ChangeValue (One None) (codes "override") (edits.Set []))) ∷ on_line 4 (Apply (AddRecipe None (codes "$$") Last (codes "t"))) ∷ on_line 5 Redo ∷ on_line 6 (Apply (AddLine (BeforeRule (Some 4294967295) (codes "foo")) (NewAssign (codes "a.b") Simple (codes "t .PHONY")))) ∷ on_line 7 (Apply (ChangePrereqs (Some 1) (codes "x.o") (RemovePrereq (codes ".PHONY")))) ∷ on_line 8 (Apply (AddLine Bottom (NewRule (codes "t a&b") Double (codes "t")))) ∷ on_line 9 (Apply (ChangePrereqs (Some 1) (codes "t") (RemovePrereq (codes "t")))) ∷ on_line 10 Cancel ∷ on_line 11 (Apply (RemoveLines (OfRule None (codes "$(s\\)")))) ∷ [])) ∷  -- random-109
    (codes "end\nrecipe  t  \"x\"", Ok (on_line 1 End ∷ on_line 2 (Apply (AddRecipe None (codes "t") Last (codes "x"))) ∷ [])) ∷  -- random-110
    (codes "unset\t$(X)\nrule\tafter-var\t$(X)\t\"$$\"\t::\t\"\"\nnth \"4294967295\" rule before-var $(X) b : .PHONY\n\"append\" a.b \"t :\"\nunset  $(X)\nappend\t$(X)\t$$\nrule\tbottom\t\"$(a b)\"\t::\t\"$(a b) c\"", Ok (on_line 1 (Apply (RemoveLines (OfAssign None (codes "$(X)")))) ∷ on_line 2 (Apply (AddLine (AfterVar None (codes "$(X)")) (NewRule (codes "$$") Double []))) ∷ on_line 3 (Apply (AddLine (BeforeVar (Some 4294967295) (codes "$(X)")) (NewRule (codes "b") Single (codes ".PHONY")))) ∷ on_line 4 (Apply (ChangeValue (One None) (codes "a.b") (edits.Append (codes "t :")))) ∷ on_line 5 (Apply (RemoveLines (OfAssign None (codes "$(X)")))) ∷ on_line 6 (Apply (ChangeValue (One None) (codes "$(X)") (edits.Append (codes "$$")))) ∷ on_line 7 (Apply (AddLine Bottom (NewRule (codes "$(a b)") Double (codes "$(a b) c")))) ∷ [])) ∷  -- random-112
    (codes "\"nth\" \"1\" set \".RECIPEPREFIX\" \"$(s\\\\) $(s\\\\)\"\nnth  4294967295  set  override  \"$(q:;=|)\"\nunset .RECIPEPREFIX\n\"set\" -x_9 c\nundepend\tfoo\tfoo\n nth 4294967295 rule \"after-var\" .RECIPEPREFIX .PHONY \"::\" \"t $(s\\\\)\"\nnth 4294967295 append .RECIPEPREFIX \"\"\nassign bottom e :::= \":\"\nunrule x.o\n", Ok (on_line 1 (Apply (ChangeValue (One (Some 1)) (codes ".RECIPEPREFIX") (edits.Set (codes "$(s\\) $(s\\)")))) ∷ on_line 2 (Apply (ChangeValue (One (Some 4294967295)) (codes "override") (edits.Set (codes "$(q:;=|)")))) ∷ on_line 3 (Apply (RemoveLines (OfAssign None (codes ".RECIPEPREFIX")))) ∷ on_line 4 (Apply (ChangeValue (One None) (codes "-x_9") (edits.Set (codes "c")))) ∷ on_line 5 (Apply (ChangePrereqs None (codes "foo") (RemovePrereq (codes "foo")))) ∷ on_line 6 (Apply (AddLine (AfterVar (Some 4294967295) (codes ".RECIPEPREFIX")) (NewRule (codes ".PHONY") Double (codes "t $(s\\)")))) ∷ on_line 7 (Apply (ChangeValue (One (Some 4294967295)) (codes ".RECIPEPREFIX") (edits.Append []))) ∷ on_line 8 (Apply (AddLine Bottom (NewAssign (codes "e") Immediate (codes ":")))) ∷ on_line 9 (Apply (RemoveLines (OfRule None (codes "x.o")))) ∷ [])) ∷  -- random-113
    (codes " depend\tb\t\"${g(}\"\n\"\"\n set .RECIPEPREFIX \"a $$\"\nundepend b ${g(}\nrecipe-set $(s\\) 4294967295 \"cÿ\"\nset .RECIPEPREFIX \"$(a b)\"\nredo\n assign after-var .RECIPEPREFIX a.b != \"$(s\\\\) a&b\"\nundo\n\"undepend\" \"b\" %.c\n", Err 2) ∷  -- random-114
    (codes " assign bottom e ?= \"\"\n\"append\"  e  \"\"", Ok (on_line 1 (Apply (AddLine Bottom (NewAssign (codes "e") Conditional []))) ∷ on_line 2 (Apply (ChangeValue (One None) (codes "e") (edits.Append []))) ∷ [])) ∷  -- random-116
    (codes "\"unrule\" b\nassign bottom CC != \"foo\"\ncancel\n assign after-var \"CC\" A \"=\" \\#\nappend CC \"\"\n\"set\" \"A\" b\nassign after-var a.b define ?= \"\"\nnth \"4294967295\" rule \"before-var\" \"A\" \"x.o\" :: -include2\n", Ok (on_line 1 (Apply (RemoveLines (OfRule None (codes "b")))) ∷ on_line 2 (Apply (AddLine Bottom (NewAssign (codes "CC") Shell (codes "foo")))) ∷ on_line 3 Cancel ∷ on_line 4 (Apply (AddLine (AfterVar None (codes "CC")) (NewAssign (codes "A") Recursive (codes "\\#")))) ∷ on_line 5 (Apply (ChangeValue (One None) (codes "CC") (edits.Append []))) ∷ on_line 6 (Apply (ChangeValue (One None) (codes "A") (edits.Set (codes "b")))) ∷ on_line 7 (Apply (AddLine (AfterVar None (codes "a.b")) (NewAssign (codes "define") Conditional []))) ∷ on_line 8 (Apply (AddLine (BeforeVar (Some 4294967295) (codes "A")) (NewRule (codes "x.o") Double (codes "-include2")))) ∷ [])) ∷  -- random-117
    (codes "recipe-del \"$(p #)\" 1\r\nassign bottom define :::= \"\"\r\n\"recipe\" \"$(p #)\" >\r\n", Ok (on_line 1 (Apply (RemoveLines (OfRecipe None (codes "$(p #)") (ByNumber 1)))) ∷ on_line 2 (Apply (AddLine Bottom (NewAssign (codes "define") Immediate []))) ∷ on_line 3 (Apply (AddRecipe None (codes "$(p #)") Last (codes ">"))) ∷ [])) ∷  -- random-118
    (codes "depend-order \"$(f {)\" a&b\nassign \"after-var\" \"Y!\" \"t1\" \":=\" $(q:;=|)\nundepend .PHONY \"$x\"\nundo\nend\nnth 1 append Y! \"\"\nundo\n\"rename\" .PHONY a&b\nbegin\nnth 4294967295 recipe-set .PHONY 2 >", Ok (on_line 1 (Apply (ChangePrereqs None (codes "$(f {)") (AddPrereq true (codes "a&b")))) ∷ on_line 2 (Apply (AddLine (AfterVar None (codes "Y!")) (NewAssign (codes "t1") Simple (codes "$(q:;=|)")))) ∷ on_line 3 (Apply (ChangePrereqs None (codes ".PHONY") (RemovePrereq (codes "$x")))) ∷ on_line 4 Undo ∷ on_line 5 End ∷ on_line 6 (Apply (ChangeValue (One (Some 1)) (codes "Y!") (edits.Append []))) ∷ on_line 7 Undo ∷ on_line 8 (Apply (RenameTarget (codes ".PHONY") (codes "a&b"))) ∷ on_line 9 Begin ∷ on_line 10 (Apply (SetRecipe (Some 4294967295) (codes ".PHONY") (ByNumber 2) (codes ">"))) ∷ [])) ∷  -- random-119
    (codes "depend $(q:;=|) \".PHONY\"\nunrule $(q:;=|)\nnth \"2\" recipe \"$(q:;=|)\" a\\\n\"depend\" ${g(} -include2\nunrule\t\"${g(}\"\nundepend \"${g(}\" -include2\n", Ok (on_line 1 (Apply (ChangePrereqs None (codes "$(q:;=|)") (AddPrereq false (codes ".PHONY")))) ∷ on_line 2 (Apply (RemoveLines (OfRule None (codes "$(q:;=|)")))) ∷ on_line 3 (Apply (AddRecipe (Some 2) (codes "$(q:;=|)") Last (codes "a\\"))) ∷ on_line 4 (Apply (ChangePrereqs None (codes "${g(}") (AddPrereq false (codes "-include2")))) ∷ on_line 5 (Apply (RemoveLines (OfRule None (codes "${g(}")))) ∷ on_line 6 (Apply (ChangePrereqs None (codes "${g(}") (RemovePrereq (codes "-include2")))) ∷ [])) ∷  -- random-120
    (codes "rule bottom $(q:;=|) : .PHONY\nnth 1 undepend \"$(f {)\" $(q:;=|)\nrecipe  $(q:;=|)  \"define\"\nend\n assign before-var \">q\" ifdef != \"2 3\"\nnth  1  depend  \"$(q:;=|)\"  $(s\\)\n", Ok (on_line 1 (Apply (AddLine Bottom (NewRule (codes "$(q:;=|)") Single (codes ".PHONY")))) ∷ on_line 2 (Apply (ChangePrereqs (Some 1) (codes "$(f {)") (RemovePrereq (codes "$(q:;=|)")))) ∷ on_line 3 (Apply (AddRecipe None (codes "$(q:;=|)") Last (codes "define"))) ∷ on_line 4 End ∷ on_line 5 (Apply (AddLine (BeforeVar None (codes ">q")) (NewAssign (codes "ifdef") Shell (codes "2 3")))) ∷ on_line 6 (Apply (ChangePrereqs (Some 1) (codes "$(q:;=|)") (AddPrereq false (codes "$(s\\)")))) ∷ [])) ∷  -- random-121
    (codes "append\ta.b\tt\nappend override %.c\n nth \"0\" assign before-var a.b a.b ::= $$\nassign before-var a.b t = \"t $x\"\nend\nredo\nundo\nbegin\nnth 1 append \"override\" $(s\\)\nnth 4294967295 unset a.b\nundo", Ok (on_line 1 (Apply (ChangeValue (One None) (codes "a.b") (edits.Append (codes "t")))) ∷ on_line 2 (Apply (ChangeValue (One None) (codes "override") (edits.Append (codes "%.c")))) ∷ on_line 3 (Apply (AddLine (BeforeVar (Some 0) (codes "a.b")) (NewAssign (codes "a.b") PosixSimple (codes "$$")))) ∷ on_line 4 (Apply (AddLine (BeforeVar None (codes "a.b")) (NewAssign (codes "t") Recursive (codes "t $x")))) ∷ on_line 5 End ∷ on_line 6 Redo ∷ on_line 7 Undo ∷ on_line 8 Begin ∷ on_line 9 (Apply (ChangeValue (One (Some 1)) (codes "override") (edits.Append (codes "$(s\\)")))) ∷ on_line 10 (Apply (RemoveLines (OfAssign (Some 4294967295) (codes "a.b")))) ∷ on_line 11 Undo ∷ [])) ∷  -- random-123
    (codes "assign\t\"bottom\"\tA\t+=\t$#\n\"set\" \"A\" foo\n nth 2 recipe ${g(} \"e f \\\\ g\"\n\"unset\"\tA\n\"rename\" foo b\n \"assign\" bottom \"a.b\" :::= \\$x\nappend a.b \"foo\"\n unset a.b\n \"append\" -x_9 $(q:;=|)\ncancel\nassign bottom CC != \"\"\n", Ok (on_line 1 (Apply (AddLine Bottom (NewAssign (codes "A") Append (codes "$#")))) ∷ on_line 2 (Apply (ChangeValue (One None) (codes "A") (edits.Set (codes "foo")))) ∷ on_line 3 (Apply (AddRecipe (Some 2) (codes "${g(}") Last (codes "e f \\ g"))) ∷ on_line 4 (Apply (RemoveLines (OfAssign None (codes "A")))) ∷ on_line 5 (Apply (RenameTarget (codes "foo") (codes "b"))) ∷ on_line 6 (Apply (AddLine Bottom (NewAssign (codes "a.b") Immediate (codes "\\$x")))) ∷ on_line 7 (Apply (ChangeValue (One None) (codes "a.b") (edits.Append (codes "foo")))) ∷ on_line 8 (Apply (RemoveLines (OfAssign None (codes "a.b")))) ∷ on_line 9 (Apply (ChangeValue (One None) (codes "-x_9") (edits.Append (codes "$(q:;=|)")))) ∷ on_line 10 Cancel ∷ on_line 11 (Apply (AddLine Bottom (NewAssign (codes "CC") Shell []))) ∷ [])) ∷  -- random-124
    (codes "append .RECIPEPREFIX \"\"\nnth  1  append  .RECIPEPREFIX  .PHONY\nassign  after-var  .RECIPEPREFIX  ifdef  ::=  \"\"\n\"nth\" \"000\" set \".RECIPEPREFIX\" \"\"\nassign\t\"bottom\"\tdefine\t+=\t$(q:;=|)\n\"append\" \\#x ${g(}\nundo\nundo\n", Ok (on_line 1 (Apply (ChangeValue (One None) (codes ".RECIPEPREFIX") (edits.Append []))) ∷ on_line 2 (Apply (ChangeValue (One (Some 1)) (codes ".RECIPEPREFIX") (edits.Append (codes ".PHONY")))) ∷ on_line 3 (Apply (AddLine (AfterVar None (codes ".RECIPEPREFIX")) (NewAssign (codes "ifdef") PosixSimple []))) ∷ on_line 4 (Apply (ChangeValue (One (Some 0)) (codes ".RECIPEPREFIX") (edits.Set []))) ∷ on_line 5 (Apply (AddLine Bottom (NewAssign (codes "define") Append (codes "$(q:;=|)")))) ∷ on_line 6 (Apply (ChangeValue (One None) (codes "\\#x") (edits.Append (codes "${g(}")))) ∷ on_line 7 Undo ∷ on_line 8 Undo ∷ [])) ∷  -- random-125
    (codes "nth 2 \"append\" .RECIPEPREFIX ;\r\nnth 0 depend-order a -include2\r\nredo\r\ndepend-order a \"foo\"\r\nnth \"2\" set .RECIPEPREFIX %.o\r\nundo\r\nnth\t000\tdepend\ta\tfoo\r\n\"recipe\" a \"\tb\"\r\nassign before-var -x_9 -x_9 ::= %.o\r\n", Ok (on_line 1 (Apply (ChangeValue (One (Some 2)) (codes ".RECIPEPREFIX") (edits.Append (codes ";")))) ∷ on_line 2 (Apply (ChangePrereqs (Some 0) (codes "a") (AddPrereq true (codes "-include2")))) ∷ on_line 3 Redo ∷ on_line 4 (Apply (ChangePrereqs None (codes "a") (AddPrereq true (codes "foo")))) ∷ on_line 5 (Apply (ChangeValue (One (Some 2)) (codes ".RECIPEPREFIX") (edits.Set (codes "%.o")))) ∷ on_line 6 Undo ∷ on_line 7 (Apply (ChangePrereqs (Some 0) (codes "a") (AddPrereq false (codes "foo")))) ∷ on_line 8 (Apply (AddRecipe None (codes "a") Last (codes "\tb"))) ∷ on_line 9 (Apply (AddLine (BeforeVar None (codes "-x_9")) (NewAssign (codes "-x_9") PosixSimple (codes "%.o")))) ∷ [])) ∷  -- random-127
    (codes "nth 2 unset \".RECIPEPREFIX\"\nrecipe-del a 0\nunrule t\ndepend $| \"a\"\nrule \"bottom\" b :: \"\"\n\"undepend\" b \"${c}\"\nunrule b\nnth 2 recipe-set \"$\t\" 4294967295 \"cÿ\"\nrule\t\"bottom\"\t$(s\\)\t::\t\"${g(} a\"\nunset  define", Ok (on_line 1 (Apply (RemoveLines (OfAssign (Some 2) (codes ".RECIPEPREFIX")))) ∷ on_line 2 (Apply (RemoveLines (OfRecipe None (codes "a") (ByNumber 0)))) ∷ on_line 3 (Apply (RemoveLines (OfRule None (codes "t")))) ∷ on_line 4 (Apply (ChangePrereqs None (codes "$|") (AddPrereq false (codes "a")))) ∷ on_line 5 (Apply (AddLine Bottom (NewRule (codes "b") Double []))) ∷ on_line 6 (Apply (ChangePrereqs None (codes "b") (RemovePrereq (codes "${c}")))) ∷ on_line 7 (Apply (RemoveLines (OfRule None (codes "b")))) ∷ on_line 8 (Apply (SetRecipe (Some 2) (codes "$\t") (ByNumber 4294967295) (codes "cÿ"))) ∷ on_line 9 (Apply (AddLine Bottom (NewRule (codes "$(s\\)") Double (codes "${g(} a")))) ∷ on_line 10 (Apply (RemoveLines (OfAssign None (codes "define")))) ∷ [])) ∷  -- random-128
    (codes "assign \"before-rule\" y CC \"?=\" \"foo\"\n\"unset\" CC\n append X \"$# $(p #)\"\nrule bottom \"\" :: $(q:;=|)\n\"recipe\" y >\nnth 0 \"recipe\" y >\ndepend\ty\tfoo\ncancel\ncancel\nassign\t\"before-rule\"\ty\t>q\t?=\t\"$#\"\nrecipe-del  y  1\n", Ok (on_line 1 (Apply (AddLine (BeforeRule None (codes "y")) (NewAssign (codes "CC") Conditional (codes "foo")))) ∷ on_line 2 (Apply (RemoveLines (OfAssign None (codes "CC")))) ∷ on_line 3 (Apply (ChangeValue (One None) (codes "X") (edits.Append (codes "$# $(p #)")))) ∷ on_line 4 (Apply (AddLine Bottom (NewRule [] Double (codes "$(q:;=|)")))) ∷ on_line 5 (Apply (AddRecipe None (codes "y") Last (codes ">"))) ∷ on_line 6 (Apply (AddRecipe (Some 0) (codes "y") Last (codes ">"))) ∷ on_line 7 (Apply (ChangePrereqs None (codes "y") (AddPrereq false (codes "foo")))) ∷ on_line 8 Cancel ∷ on_line 9 Cancel ∷ on_line 10 (Apply (AddLine (BeforeRule None (codes "y")) (NewAssign (codes ">q") Conditional (codes "$#")))) ∷ on_line 11 (Apply (RemoveLines (OfRecipe None (codes "y") (ByNumber 1)))) ∷ [])) ∷  -- random-129
    (codes "nth 001 recipe %.o \"e f \\\\ g\"\r\nassign before-rule \"%.o\" ifdef := \"\"\r\nnth\t4294967295\trecipe\t\"$$\"\tq:=1\r\nnth 002 unset ifdef\r\n\"rename\"\t$(q:;=|)\t$(q:;=|)\r\nunrule -include2\r\n", Ok (on_line 1 (Apply (AddRecipe (Some 1) (codes "%.o") Last (codes "e f \\ g"))) ∷ on_line 2 (Apply (AddLine (BeforeRule None (codes "%.o")) (NewAssign (codes "ifdef") Simple []))) ∷ on_line 3 (Apply (AddRecipe (Some 4294967295) (codes "$$") Last (codes "q:=1"))) ∷ on_line 4 (Apply (RemoveLines (OfAssign (Some 2) (codes "ifdef")))) ∷ on_line 5 (Apply (RenameTarget (codes "$(q:;=|)") (codes "$(q:;=|)"))) ∷ on_line 6 (Apply (RemoveLines (OfRule None (codes "-include2")))) ∷ [])) ∷  -- random-130
    (codes "begin\nrecipe-set foo 0 \"y # z\"\n", Ok (on_line 1 Begin ∷ on_line 2 (Apply (SetRecipe None (codes "foo") (ByNumber 0) (codes "y # z"))) ∷ [])) ∷  -- random-131
    (codes "\"set\" endef a\r\nappend \"endef\" \"\"\r\nrename foo \"$(a b)\"\r\nredo\r\nundo\r\nredo\r\nappend endef \"= 2 3\"\r\n", Ok (on_line 1 (Apply (ChangeValue (One None) (codes "endef") (edits.Set (codes "a")))) ∷ on_line 2 (Apply (ChangeValue (One None) (codes "endef") (edits.Append []))) ∷ on_line 3 (Apply (RenameTarget (codes "foo") (codes "$(a b)"))) ∷ on_line 4 Redo ∷ on_line 5 Undo ∷ on_line 6 Redo ∷ on_line 7 (Apply (ChangeValue (One None) (codes "endef") (edits.Append (codes "= 2 3")))) ∷ [])) ∷  -- random-132
    (codes "recipe-del foo 2\nassign before-var \"Y\" \"ifdef\" :::= %.o\nnth 002 unset Y\n\"assign\" bottom >q \"::=\" \"${c}\"\n", Ok (on_line 1 (Apply (RemoveLines (OfRecipe None (codes "foo") (ByNumber 2)))) ∷ on_line 2 (Apply (AddLine (BeforeVar None (codes "Y")) (NewAssign (codes "ifdef") Immediate (codes "%.o")))) ∷ on_line 3 (Apply (RemoveLines (OfAssign (Some 2) (codes "Y")))) ∷ on_line 4 (Apply (AddLine Bottom (NewAssign (codes ">q") PosixSimple (codes "${c}")))) ∷ [])) ∷  -- random-133
    (codes " assign\tbottom\tCC\t+=\t\"\"\nset  CC  $x\nassign after-var CC a.b += \"%.c ;\"\n\"rule\" bottom \"\" : \"${g(} $(f {)\"\nrule\tbottom\t\"$(u foo\"\t::\t\"$(q:;=|)\"\nrule bottom $(s\\) \":\" \"\"\nredo\n", Ok (on_line 1 (Apply (AddLine Bottom (NewAssign (codes "CC") Append []))) ∷ on_line 2 (Apply (ChangeValue (One None) (codes "CC") (edits.Set (codes "$x")))) ∷ on_line 3 (Apply (AddLine (AfterVar None (codes "CC")) (NewAssign (codes "a.b") Append (codes "%.c ;")))) ∷ on_line 4 (Apply (AddLine Bottom (NewRule [] Single (codes "${g(} $(f {)")))) ∷ on_line 5 (Apply (AddLine Bottom (NewRule (codes "$(u foo") Double (codes "$(q:;=|)")))) ∷ on_line 6 (Apply (AddLine Bottom (NewRule (codes "$(s\\)") Single []))) ∷ on_line 7 Redo ∷ [])) ∷  -- random-134
    (codes "set \".RECIPEPREFIX\" \"b\"\n set  .RECIPEPREFIX  foo\nappend\tdefine\tb\nappend .RECIPEPREFIX -include2\nappend \"X\" \"\"\nassign after-var \".RECIPEPREFIX\" \"e\" ?= %.o\nundo\nrule bottom \"\" : \"\"\nassign bottom \">q\" ::= t\nundo\nassign bottom CC ?= %.o\n", Ok (on_line 1 (Apply (ChangeValue (One None) (codes ".RECIPEPREFIX") (edits.Set (codes "b")))) ∷ on_line 2 (Apply (ChangeValue (One None) (codes ".RECIPEPREFIX") (edits.Set (codes "foo")))) ∷ on_line 3 (Apply (ChangeValue (One None) (codes "define") (edits.Append (codes "b")))) ∷ on_line 4 (Apply (ChangeValue (One None) (codes ".RECIPEPREFIX") (edits.Append (codes "-include2")))) ∷ on_line 5 (Apply (ChangeValue (One None) (codes "X") (edits.Append []))) ∷ on_line 6 (Apply (AddLine (AfterVar None (codes ".RECIPEPREFIX")) (NewAssign (codes "e") Conditional (codes "%.o")))) ∷ on_line 7 Undo ∷ on_line 8 (Apply (AddLine Bottom (NewRule [] Single []))) ∷ on_line 9 (Apply (AddLine Bottom (NewAssign (codes ">q") PosixSimple (codes "t")))) ∷ on_line 10 Undo ∷ on_line 11 (Apply (AddLine Bottom (NewAssign (codes "CC") Conditional (codes "%.o")))) ∷ [])) ∷  -- random-135
    (codes "assign\tbottom\tdefine\t\"::=\"\t:\n append define \"$(p #)\"\nnth  002  set  define  \"c $(a b)\"\n rule after-var define $x :: \"$(p #) $(a b)\"\n", Ok (on_line 1 (Apply (AddLine Bottom (NewAssign (codes "define") PosixSimple (codes ":")))) ∷ on_line 2 (Apply (ChangeValue (One None) (codes "define") (edits.Append (codes "$(p #)")))) ∷ on_line 3 (Apply (ChangeValue (One (Some 2)) (codes "define") (edits.Set (codes "c $(a b)")))) ∷ on_line 4 (Apply (AddLine (AfterVar None (codes "define")) (NewRule (codes "$x") Double (codes "$(p #) $(a b)")))) ∷ [])) ∷  -- random-136
    (codes "end\r\nnth 0 append \"define\" \"$(f {) |\"\r\nassign  bottom  -x_9  ?=  \"$(f {)\"\r\nredo\r\n rule after-var define b :: \"\"\r\ndepend b $(q:;=|)\r\nredo\r\nset define \"\"\r\nend\r\nrecipe-set \"b\" \"0\" \"\"\r\nundo\r\n", Ok (on_line 1 End ∷ on_line 2 (Apply (ChangeValue (One (Some 0)) (codes "define") (edits.Append (codes "$(f {) |")))) ∷ on_line 3 (Apply (AddLine Bottom (NewAssign (codes "-x_9") Conditional (codes "$(f {)")))) ∷ on_line 4 Redo ∷ on_line 5 (Apply (AddLine (AfterVar None (codes "define")) (NewRule (codes "b") Double []))) ∷ on_line 6 (Apply (ChangePrereqs None (codes "b") (AddPrereq false (codes "$(q:;=|)")))) ∷ on_line 7 Redo ∷ on_line 8 (Apply (ChangeValue (One None) (codes "define") (edits.Set []))) ∷ on_line 9 End ∷ on_line 10 (Apply (SetRecipe None (codes "b") (ByNumber 0) [])) ∷ on_line 11 Undo ∷ [])) ∷  -- random-138
    (codes "recipe \"over\" \"\"\nredo\nredo\nbegin\n", Ok (on_line 1 (Apply (AddRecipe None (codes "over") Last [])) ∷ on_line 2 Redo ∷ on_line 3 Redo ∷ on_line 4 Begin ∷ [])) ∷  -- random-139
    (codes "redo\nundo\n\"nth\" 1 \"unset\" A\n", Ok (on_line 1 Redo ∷ on_line 2 Undo ∷ on_line 3 (Apply (RemoveLines (OfAssign (Some 1) (codes "A")))) ∷ [])) ∷  -- random-140
    (codes "begin\nrule before-var >q \"$(q:;=|)\" :: $$\nundo\n recipe-del\tx.o\t001\n", Ok (on_line 1 Begin ∷ on_line 2 (Apply (AddLine (BeforeVar None (codes ">q")) (NewRule (codes "$(q:;=|)") Double (codes "$$")))) ∷ on_line 3 Undo ∷ on_line 4 (Apply (RemoveLines (OfRecipe None (codes "x.o") (ByNumber 1)))) ∷ [])) ∷  -- random-141
    (codes "redo\nassign after-var .RECIPEPREFIX ifdef := \"\"\nundo\nredo", Ok (on_line 1 Redo ∷ on_line 2 (Apply (AddLine (AfterVar None (codes ".RECIPEPREFIX")) (NewAssign (codes "ifdef") Simple []))) ∷ on_line 3 Undo ∷ on_line 4 Redo ∷ [])) ∷  -- random-142
    (codes " set ifdef \"\"\nrule bottom a :: $(s\\)\ndepend\ty\ta&b\n recipe %.c \"\tb\"\ndepend-order -include2 \"$(f {)\"\nundo\nunset ifdef\nassign after-var -x_9 t := foo\n", Ok (on_line 1 (Apply (ChangeValue (One None) (codes "ifdef") (edits.Set []))) ∷ on_line 2 (Apply (AddLine Bottom (NewRule (codes "a") Double (codes "$(s\\)")))) ∷ on_line 3 (Apply (ChangePrereqs None (codes "y") (AddPrereq false (codes "a&b")))) ∷ on_line 4 (Apply (AddRecipe None (codes "%.c") Last (codes "\tb"))) ∷ on_line 5 (Apply (ChangePrereqs None (codes "-include2") (AddPrereq true (codes "$(f {)")))) ∷ on_line 6 Undo ∷ on_line 7 (Apply (RemoveLines (OfAssign None (codes "ifdef")))) ∷ on_line 8 (Apply (AddLine (AfterVar None (codes "-x_9")) (NewAssign (codes "t") Simple (codes "foo")))) ∷ [])) ∷  -- random-143
    (codes "\"nth\" 1 recipe \"foo\" \" a\"\nrecipe-set\tc\t001\tcÿ\nnth 001 \"recipe-set\" foo 001 \" a\"\nrecipe-del $(q:;=|) 2\nnth\t2\tassign\tbefore-rule\tfoo\tifdef\t+=\t\"\"\nundo\nbegin", Ok (on_line 1 (Apply (AddRecipe (Some 1) (codes "foo") Last (codes " a"))) ∷ on_line 2 (Apply (SetRecipe None (codes "c") (ByNumber 1) (codes "cÿ"))) ∷ on_line 3 (Apply (SetRecipe (Some 1) (codes "foo") (ByNumber 1) (codes " a"))) ∷ on_line 4 (Apply (RemoveLines (OfRecipe None (codes "$(q:;=|)") (ByNumber 2)))) ∷ on_line 5 (Apply (AddLine (BeforeRule (Some 2) (codes "foo")) (NewAssign (codes "ifdef") Append []))) ∷ on_line 6 Undo ∷ on_line 7 Begin ∷ [])) ∷  -- random-144
    (codes "end\nredo\nunset\tCC\nunset \">\"\n\"set\" > \"$(p #) a\\\\:b\"\n\"assign\"  after-var  >  >q  :::=  \"1 ;\"\nbegin\nundo\nassign bottom \"A\" = \"\"\nredo\n", Ok (on_line 1 End ∷ on_line 2 Redo ∷ on_line 3 (Apply (RemoveLines (OfAssign None (codes "CC")))) ∷ on_line 4 (Apply (RemoveLines (OfAssign None (codes ">")))) ∷ on_line 5 (Apply (ChangeValue (One None) (codes ">") (edits.Set (codes "$(p #) a\\:b")))) ∷ on_line 6 (Apply (AddLine (AfterVar None (codes ">")) (NewAssign (codes ">q") Immediate (codes "1 ;")))) ∷ on_line 7 Begin ∷ on_line 8 Undo ∷ on_line 9 (Apply (AddLine Bottom (NewAssign (codes "A") Recursive []))) ∷ on_line 10 Redo ∷ [])) ∷  -- random-145
    (codes "end\n", Ok (on_line 1 End ∷ [])) ∷  -- random-146
    (codes "nth 0 \"recipe\" $(q:;=|) \"e f \\\\ g\"\r\n rule before-rule $(q:;=|) \"foo ${c}\" : \"foo $(f {)\"\r\n", Ok (on_line 1 (Apply (AddRecipe (Some 0) (codes "$(q:;=|)") Last (codes "e f \\ g"))) ∷ on_line 2 (Apply (AddLine (BeforeRule None (codes "$(q:;=|)")) (NewRule (codes "foo ${c}") Single (codes "foo $(f {)")))) ∷ [])) ∷  -- random-147
    (codes "nth 2 recipe-set $$ 1 cÿ\nnth 1 \"recipe\" $$ \"y # z\"\n\"nth\" 1 undepend $$ \"$$\"\nnth 001 undepend $$ \"$(f {)\"\nrule\tbottom\t\"$(p #)\"\t:\t\"\"\nundo\nredo\nundo\n", Ok (on_line 1 (Apply (SetRecipe (Some 2) (codes "$$") (ByNumber 1) (codes "cÿ"))) ∷ on_line 2 (Apply (AddRecipe (Some 1) (codes "$$") Last (codes "y # z"))) ∷ on_line 3 (Apply (ChangePrereqs (Some 1) (codes "$$") (RemovePrereq (codes "$$")))) ∷ on_line 4 (Apply (ChangePrereqs (Some 1) (codes "$$") (RemovePrereq (codes "$(f {)")))) ∷ on_line 5 (Apply (AddLine Bottom (NewRule (codes "$(p #)") Single []))) ∷ on_line 6 Undo ∷ on_line 7 Redo ∷ on_line 8 Undo ∷ [])) ∷  -- random-148
    (codes "nth 1 \"recipe\" y \"\"\nredo\n", Ok (on_line 1 (Apply (AddRecipe (Some 1) (codes "y") Last [])) ∷ on_line 2 Redo ∷ [])) ∷  -- random-151
    (codes "\"nth\" 4294967295 assign before-rule y \"ifdef\" :::= \"\"\nrecipe-set \"y\" 0 x\nnth 001 undepend y ${g(}\nbegin\nunset\t$(X)\nrecipe  x.o  \" a\"\nredo\n", Ok (on_line 1 (Apply (AddLine (BeforeRule (Some 4294967295) (codes "y")) (NewAssign (codes "ifdef") Immediate []))) ∷ on_line 2 (Apply (SetRecipe None (codes "y") (ByNumber 0) (codes "x"))) ∷ on_line 3 (Apply (ChangePrereqs (Some 1) (codes "y") (RemovePrereq (codes "${g(}")))) ∷ on_line 4 Begin ∷ on_line 5 (Apply (RemoveLines (OfAssign None (codes "$(X)")))) ∷ on_line 6 (Apply (AddRecipe None (codes "x.o") Last (codes " a"))) ∷ on_line 7 Redo ∷ [])) ∷  -- random-152
    (codes "unrule \"foo\"\ncancel\nrecipe-del foo 4294967295\n", Ok (on_line 1 (Apply (RemoveLines (OfRule None (codes "foo")))) ∷ on_line 2 Cancel ∷ on_line 3 (Apply (RemoveLines (OfRecipe None (codes "foo") (ByNumber 4294967295)))) ∷ [])) ∷  -- random-153
    (codes "recipe x.o \" a\"\r\nunset X\r\ndepend $(q:;=|) \"$(a b)\"\r\nnth\t1\tundepend\ta\t\"$(f {)\"\r\nnth\t1\t\"recipe-set\"\t>a\t1\t\"t\"\r\nundepend  foo  $$\r\nrename a -include2\r\nundepend >a ${g(}\r\nrule before-rule \"foo\" \"$(s\\\\)\" :: \"$& a&b\"\r\nrecipe -include2 \"\"\r\n", Ok (on_line 1 (Apply (AddRecipe None (codes "x.o") Last (codes " a"))) ∷ on_line 2 (Apply (RemoveLines (OfAssign None (codes "X")))) ∷ on_line 3 (Apply (ChangePrereqs None (codes "$(q:;=|)") (AddPrereq false (codes "$(a b)")))) ∷ on_line 4 (Apply (ChangePrereqs (Some 1) (codes "a") (RemovePrereq (codes "$(f {)")))) ∷ on_line 5 (Apply (SetRecipe (Some 1) (codes ">a") (ByNumber 1) (codes "t"))) ∷ on_line 6 (Apply (ChangePrereqs None (codes "foo") (RemovePrereq (codes "$$")))) ∷ on_line 7 (Apply (RenameTarget (codes "a") (codes "-include2"))) ∷ on_line 8 (Apply (ChangePrereqs None (codes ">a") (RemovePrereq (codes "${g(}")))) ∷ on_line 9 (Apply (AddLine (BeforeRule None (codes "foo")) (NewRule (codes "$(s\\)") Double (codes "$& a&b")))) ∷ on_line 10 (Apply (AddRecipe None (codes "-include2") Last [])) ∷ [])) ∷  -- random-154
    (codes "redo\n\"rename\" $$ -include2\nrecipe \"$(p #)\" cÿ\nnth 0 \"assign\" \"before-rule\" -include2 e ?= \"\"\ncancel\nredo\nundo\nundo\nrecipe-set foo \"1\" x\nbegin\nassign \"bottom\" e \"?=\" \"t %.o\"\n", Ok (on_line 1 Redo ∷ on_line 2 (Apply (RenameTarget (codes "$$") (codes "-include2"))) ∷ on_line 3 (Apply (AddRecipe None (codes "$(p #)") Last (codes "cÿ"))) ∷ on_line 4 (Apply (AddLine (BeforeRule (Some 0) (codes "-include2")) (NewAssign (codes "e") Conditional []))) ∷ on_line 5 Cancel ∷ on_line 6 Redo ∷ on_line 7 Undo ∷ on_line 8 Undo ∷ on_line 9 (Apply (SetRecipe None (codes "foo") (ByNumber 1) (codes "x"))) ∷ on_line 10 Begin ∷ on_line 11 (Apply (AddLine Bottom (NewAssign (codes "e") Conditional (codes "t %.o")))) ∷ [])) ∷  -- random-155
    (codes "depend-order  .PHONY  ${c}\n\"recipe-del\" ${g(} 4294967295", Ok (on_line 1 (Apply (ChangePrereqs None (codes ".PHONY") (AddPrereq true (codes "${c}")))) ∷ on_line 2 (Apply (RemoveLines (OfRecipe None (codes "${g(}") (ByNumber 4294967295)))) ∷ [])) ∷  -- random-156
    (codes "set  override  \"\"\r\n nth  4294967295  unset  \"override\"\r\n \"set\" \"override\" $x\r\nset \"override\" \"\"\r\nundo\r\nbegin\r\nrule\tbottom\t\"$(q:;=|)\"\t\":\"\t\"$(s\\\\) $&\"\r\nunset override\r\nend\r\n", Ok (on_line 1 (Apply (ChangeValue (One None) (codes "override") (edits.Set []))) ∷ on_line 2 (Apply (RemoveLines (OfAssign (Some 4294967295) (codes "override")))) ∷ on_line 3 (Apply (ChangeValue (One None) (codes "override") (edits.Set (codes "$x")))) ∷ on_line 4 (Apply (ChangeValue (One None) (codes "override") (edits.Set []))) ∷ on_line 5 Undo ∷ on_line 6 Begin ∷ on_line 7 (Apply (AddLine Bottom (NewRule (codes "$(q:;=|)") Single (codes "$(s\\) $&")))) ∷ on_line 8 (Apply (RemoveLines (OfAssign None (codes "override")))) ∷ on_line 9 End ∷ [])) ∷  -- random-157
    (codes "end\n\"nth\" 1 depend foo ${g(}\nend\nrule after-var X $$ : a&b\n append X |\n assign after-var X X \"+=\" \"\"\nnth 000 set \"X\" $(q:;=|)\nrename \"${g(}\" ${g(}\nnth 2 \"set\" X \"\"\nnth 4294967295 recipe-set $$ 4294967295 $(\nnth \"0\" \"unrule\" \"$$\"\nundo\n", Ok (on_line 1 End ∷ on_line 2 (Apply (ChangePrereqs (Some 1) (codes "foo") (AddPrereq false (codes "${g(}")))) ∷ on_line 3 End ∷ on_line 4 (Apply (AddLine (AfterVar None (codes "X")) (NewRule (codes "$$") Single (codes "a&b")))) ∷ on_line 5 (Apply (ChangeValue (One None) (codes "X") (edits.Append (codes "|")))) ∷ on_line 6 (Apply (AddLine (AfterVar None (codes "X")) (NewAssign (codes "X") Append []))) ∷ on_line 7 (Apply (ChangeValue (One (Some 0)) (codes "X") (edits.Set (codes "$(q:;=|)")))) ∷ on_line 8 (Apply (RenameTarget (codes "${g(}") (codes "${g(}"))) ∷ on_line 9 (Apply (ChangeValue (One (Some 2)) (codes "X") (edits.Set []))) ∷ on_line 10 (Apply (SetRecipe (Some 4294967295) (codes "$$") (ByNumber 4294967295) (codes "$("))) ∷ on_line 11 (Apply (RemoveLines (OfRule (Some 0) (codes "$$")))) ∷ on_line 12 Undo ∷ [])) ∷  -- random-158
    (codes "recipe-set\t-include2\t002\t$(\nnth\t1\tunset\t-x_9\nrename -include2 a\n\"rename\" \"a&b\" -include2\nundepend a %.o\n\"nth\" 000 unrule a\nrecipe-set a 1 x\nrecipe-del  a  002\nredo\n", Ok (on_line 1 (Apply (SetRecipe None (codes "-include2") (ByNumber 2) (codes "$("))) ∷ on_line 2 (Apply (RemoveLines (OfAssign (Some 1) (codes "-x_9")))) ∷ on_line 3 (Apply (RenameTarget (codes "-include2") (codes "a"))) ∷ on_line 4 (Apply (RenameTarget (codes "a&b") (codes "-include2"))) ∷ on_line 5 (Apply (ChangePrereqs None (codes "a") (RemovePrereq (codes "%.o")))) ∷ on_line 6 (Apply (RemoveLines (OfRule (Some 0) (codes "a")))) ∷ on_line 7 (Apply (SetRecipe None (codes "a") (ByNumber 1) (codes "x"))) ∷ on_line 8 (Apply (RemoveLines (OfRecipe None (codes "a") (ByNumber 2)))) ∷ on_line 9 Redo ∷ [])) ∷  -- random-159
    (codes "nth 4294967295 assign after-var .RECIPEPREFIX a.b += \"= x.o\"\nrule bottom \"$(f {)\" :: \"$(q:;=|) $ \"\nunset .RECIPEPREFIX\n", Ok (on_line 1 (Apply (AddLine (AfterVar (Some 4294967295) (codes ".RECIPEPREFIX")) (NewAssign (codes "a.b") Append (codes "= x.o")))) ∷ on_line 2 (Apply (AddLine Bottom (NewRule (codes "$(f {)") Double (codes "$(q:;=|) $ ")))) ∷ on_line 3 (Apply (RemoveLines (OfAssign None (codes ".RECIPEPREFIX")))) ∷ [])) ∷  -- random-160
    (codes "undo\r\n rule \"bottom\" \".PHONY a\\\\ b\" \"::\" \"\"\r\n\"assign\" bottom override += \"\"\r\nredo\r\nredo\r\nappend  \"override\"  \"t ;\"\r\nundo\r\nset override \"$(a b)\"\r\nassign \"after-var\" override >q += \"\"\r\nbegin", Ok (on_line 1 Undo ∷ on_line 2 (Apply (AddLine Bottom (NewRule (codes ".PHONY a\\ b") Double []))) ∷ on_line 3 (Apply (AddLine Bottom (NewAssign (codes "override") Append []))) ∷ on_line 4 Redo ∷ on_line 5 Redo ∷ on_line 6 (Apply (ChangeValue (One None) (codes "override") (edits.Append (codes "t ;")))) ∷ on_line 7 Undo ∷ on_line 8 (Apply (ChangeValue (One None) (codes "override") (edits.Set (codes "$(a b)")))) ∷ on_line 9 (Apply (AddLine (AfterVar None (codes "override")) (NewAssign (codes ">q") Append []))) ∷ on_line 10 Begin ∷ [])) ∷  -- random-161
    (codes "nth 0 unrule a&b\r\nrecipe-set \"a&b\" 1 \" a\"", Ok (on_line 1 (Apply (RemoveLines (OfRule (Some 0) (codes "a&b")))) ∷ on_line 2 (Apply (SetRecipe None (codes "a&b") (ByNumber 1) (codes " a"))) ∷ [])) ∷  -- random-162
    (codes "undo\nredo\nnth 4294967295 unrule y\nend\nnth 4294967295 \"depend-order\" \"$(p #)\" \"${c}\"\nundo\nrecipe-set \"$(p #)\" 2 \" a\"\nrename \"$(p #)\" foo\nrecipe-set y \"1\" \">\"\n\"nth\" 4294967295 depend-order foo \"$(p #)\"\n\"rule\" before-var define \"\" : a\n", Ok (on_line 1 Undo ∷ on_line 2 Redo ∷ on_line 3 (Apply (RemoveLines (OfRule (Some 4294967295) (codes "y")))) ∷ on_line 4 End ∷ on_line 5 (Apply (ChangePrereqs (Some 4294967295) (codes "$(p #)") (AddPrereq true (codes "${c}")))) ∷ on_line 6 Undo ∷ on_line 7 (Apply (SetRecipe None (codes "$(p #)") (ByNumber 2) (codes " a"))) ∷ on_line 8 (Apply (RenameTarget (codes "$(p #)") (codes "foo"))) ∷ on_line 9 (Apply (SetRecipe None (codes "y") (ByNumber 1) (codes ">"))) ∷ on_line 10 (Apply (ChangePrereqs (Some 4294967295) (codes "foo") (AddPrereq true (codes "$(p #)")))) ∷ on_line 11 (Apply (AddLine (BeforeVar None (codes "define")) (NewRule [] Single (codes "a")))) ∷ [])) ∷  -- random-164
    (codes "\"unrule\"  \"$(f {)\"\r\nassign bottom -x_9 :::= \"\"\r\n", Ok (on_line 1 (Apply (RemoveLines (OfRule None (codes "$(f {)")))) ∷ on_line 2 (Apply (AddLine Bottom (NewAssign (codes "-x_9") Immediate []))) ∷ [])) ∷  -- random-165
    (codes "rule \"before-rule\" ${g(} \"${c} $(p #)\" :: \"foo b\"\nundo\nundo\nrecipe-del t 0\nundo\nrecipe\tt\t\">\"\nundo\n", Ok (on_line 1 (Apply (AddLine (BeforeRule None (codes "${g(}")) (NewRule (codes "${c} $(p #)") Double (codes "foo b")))) ∷ on_line 2 Undo ∷ on_line 3 Undo ∷ on_line 4 (Apply (RemoveLines (OfRecipe None (codes "t") (ByNumber 0)))) ∷ on_line 5 Undo ∷ on_line 6 (Apply (AddRecipe None (codes "t") Last (codes ">"))) ∷ on_line 7 Undo ∷ [])) ∷  -- random-166
    []

answers_3 : map (λ row. read_script row.0) rows_3 ≡ map (λ row. row.1) rows_3
unfolding line_len lines_from
answers_3 = refl

abbrev rows_4 : List (List ℕ × Result (List Step) ℕ)
rows_4 =
    (codes "nth 001 append \"endef\" \"a\"\nrecipe .PHONY \"cÿ\"\nappend )&$+ \"\"\n", Ok (on_line 1 (Apply (ChangeValue (One (Some 1)) (codes "endef") (edits.Append (codes "a")))) ∷ on_line 2 (Apply (AddRecipe None (codes ".PHONY") Last (codes "cÿ"))) ∷ on_line 3 (Apply (ChangeValue (One None) (codes ")&$+") (edits.Append []))) ∷ [])) ∷  -- random-167
    (codes "rename \"foo\" foo\n\"nth\" \"1\" append ) =\n \"nth\" 1 depend foo %.o\n append\t)\t\"$# ${g(}\"\nundo\ndepend-order foo else\nundo\nnth 2 set define \"\"\n", Ok (on_line 1 (Apply (RenameTarget (codes "foo") (codes "foo"))) ∷ on_line 2 (Apply (ChangeValue (One (Some 1)) (codes ")") (edits.Append (codes "=")))) ∷ on_line 3 (Apply (ChangePrereqs (Some 1) (codes "foo") (AddPrereq false (codes "%.o")))) ∷ on_line 4 (Apply (ChangeValue (One None) (codes ")") (edits.Append (codes "$# ${g(}")))) ∷ on_line 5 Undo ∷ on_line 6 (Apply (ChangePrereqs None (codes "foo") (AddPrereq true (codes "else")))) ∷ on_line 7 Undo ∷ on_line 8 (Apply (ChangeValue (One (Some 2)) (codes "define") (edits.Set []))) ∷ [])) ∷  -- random-169
    (codes "redo", Ok (on_line 1 Redo ∷ [])) ∷  -- random-170
    (codes "nth 1 \"recipe\" ${g(} \" a\"\nassign bottom endef != \"$$\"\nunset \\#x\nassign before-var endef \">q\" != $#\nundo\n", Ok (on_line 1 (Apply (AddRecipe (Some 1) (codes "${g(}") Last (codes " a"))) ∷ on_line 2 (Apply (AddLine Bottom (NewAssign (codes "endef") Shell (codes "$$")))) ∷ on_line 3 (Apply (RemoveLines (OfAssign None (codes "\\#x")))) ∷ on_line 4 (Apply (AddLine (BeforeVar None (codes "endef")) (NewAssign (codes ">q") Shell (codes "$#")))) ∷ on_line 5 Undo ∷ [])) ∷  -- random-172
    (codes "\"recipe\"\ta\t\"e f \\\\ g\"\r\n depend a \"b\"\r\nset  a.b  \"$(f {)\"\r\n", Ok (on_line 1 (Apply (AddRecipe None (codes "a") Last (codes "e f \\ g"))) ∷ on_line 2 (Apply (ChangePrereqs None (codes "a") (AddPrereq false (codes "b")))) ∷ on_line 3 (Apply (ChangeValue (One None) (codes "a.b") (edits.Set (codes "$(f {)")))) ∷ [])) ∷  -- random-173
    (codes " unset .RECIPEPREIX\nassign bottom override ::= \"$(f {) $(p #)\"\nset override \"\"\nunset override\n\"assign\" bottom \"CC\" :::= a\\:b\nunset CC\nassign bottom \">q\" := $$\nrule  \"after-var\"  define  \"%.c\"  ::  \"\"\n\"rule\" bottom \"$(f {)\" :: \"$x a\\\\ b\"\nassign\tbottom\t\"CC\"\t\":::=\"\t;\nappend CC \"\"\n \"assign\" bottom a.b := \"2 3\"\n", Ok (on_line 1 (Apply (RemoveLines (OfAssign None (codes ".RECIPEPREIX")))) ∷ on_line 2 (Apply (AddLine Bottom (NewAssign (codes "override") PosixSimple (codes "$(f {) $(p #)")))) ∷ on_line 3 (Apply (ChangeValue (One None) (codes "override") (edits.Set []))) ∷ on_line 4 (Apply (RemoveLines (OfAssign None (codes "override")))) ∷ on_line 5 (Apply (AddLine Bottom (NewAssign (codes "CC") Immediate (codes "a\\:b")))) ∷ on_line 6 (Apply (RemoveLines (OfAssign None (codes "CC")))) ∷ on_line 7 (Apply (AddLine Bottom (NewAssign (codes ">q") Simple (codes "$$")))) ∷ on_line 8 (Apply (AddLine (AfterVar None (codes "define")) (NewRule (codes "%.c") Double []))) ∷ on_line 9 (Apply (AddLine Bottom (NewRule (codes "$(f {)") Double (codes "$x a\\ b")))) ∷ on_line 10 (Apply (AddLine Bottom (NewAssign (codes "CC") Immediate (codes ";")))) ∷ on_line 11 (Apply (ChangeValue (One None) (codes "CC") (edits.Append []))) ∷ on_line 12 (Apply (AddLine Bottom (NewAssign (codes "a.b") Simple (codes "2 3")))) ∷ [])) ∷  -- random-175
    (codes "end\nredo\nrecipe-del ${c} 1\nset define c\nnth 2 \"rule\" after-var \"ifdef\" -include2 : \"\"\nappend \"define\" \"${c} a\\\\:b\"\nset define \"%.o ;\"\nnth \"4294967295\" append ifdef \"$(p #)\"\n\"append\" \"define\" \"\"\ndepend-order ${c} x.o\n", Ok (on_line 1 End ∷ on_line 2 Redo ∷ on_line 3 (Apply (RemoveLines (OfRecipe None (codes "${c}") (ByNumber 1)))) ∷ on_line 4 (Apply (ChangeValue (One None) (codes "define") (edits.Set (codes "c")))) ∷ on_line 5 (Apply (AddLine (AfterVar (Some 2) (codes "ifdef")) (NewRule (codes "-include2") Single []))) ∷ on_line 6 (Apply (ChangeValue (One None) (codes "define") (edits.Append (codes "${c} a\\:b")))) ∷ on_line 7 (Apply (ChangeValue (One None) (codes "define") (edits.Set (codes "%.o ;")))) ∷ on_line 8 (Apply (ChangeValue (One (Some 4294967295)) (codes "ifdef") (edits.Append (codes "$(p #)")))) ∷ on_line 9 (Apply (ChangeValue (One None) (codes "define") (edits.Append []))) ∷ on_line 10 (Apply (ChangePrereqs None (codes "${c}") (AddPrereq true (codes "x.o")))) ∷ [])) ∷  -- random-176
    (codes "recipe-set \"b\" \"1\" q:=1\ncancel\nrule bottom -include2 : c\nundo\nrule \"after-var\" ifdef \"$(p #)\" \"::\" \"\"", Ok (on_line 1 (Apply (SetRecipe None (codes "b") (ByNumber 1) (codes "q:=1"))) ∷ on_line 2 Cancel ∷ on_line 3 (Apply (AddLine Bottom (NewRule (codes "-include2") Single (codes "c")))) ∷ on_line 4 Undo ∷ on_line 5 (Apply (AddLine (AfterVar None (codes "ifdef")) (NewRule (codes "$(p #)") Double []))) ∷ [])) ∷  -- random-177
    (codes "undo\nassign bottom -x_9 = -include2\n", Ok (on_line 1 Undo ∷ on_line 2 (Apply (AddLine Bottom (NewAssign (codes "-x_9") Recursive (codes "-include2")))) ∷ [])) ∷  -- random-178
    (codes "undepend %.c \"$(a b)\"\r\nundo\r\nrename \"$(a b)\" b\r\nrecipe %.c >\r\nnth 4294967295 recipe-del %.c 1\r\nrename %.c $(s\\)\r\nundo\r\n\"rename\" \"$(a b)\" t\r\nrename  \"$(a b)\"  .PHONY\r\n", Ok (on_line 1 (Apply (ChangePrereqs None (codes "%.c") (RemovePrereq (codes "$(a b)")))) ∷ on_line 2 Undo ∷ on_line 3 (Apply (RenameTarget (codes "$(a b)") (codes "b"))) ∷ on_line 4 (Apply (AddRecipe None (codes "%.c") Last (codes ">"))) ∷ on_line 5 (Apply (RemoveLines (OfRecipe (Some 4294967295) (codes "%.c") (ByNumber 1)))) ∷ on_line 6 (Apply (RenameTarget (codes "%.c") (codes "$(s\\)"))) ∷ on_line 7 Undo ∷ on_line 8 (Apply (RenameTarget (codes "$(a b)") (codes "t"))) ∷ on_line 9 (Apply (RenameTarget (codes "$(a b)") (codes ".PHONY"))) ∷ [])) ∷  -- random-179
    (codes "assign bottom A :::= \"$$ |\"\nrecipe \"c\" \"e f \\\\ g\"\nnth 4294967295 rule before-rule \"c\" x.o :: -include2\nredo\nnth 4294967295 \"assign\" before-rule c t ?= \"a 2 3\"\n\"set\" A \"$(s\\\\) c\"\nundo\nbegin\nnth 2 undepend c b\nunrule c\nnth\t0\t\"append\"\tdefine\ta\nset \"A\" \"\"\n", Ok (on_line 1 (Apply (AddLine Bottom (NewAssign (codes "A") Immediate (codes "$$ |")))) ∷ on_line 2 (Apply (AddRecipe None (codes "c") Last (codes "e f \\ g"))) ∷ on_line 3 (Apply (AddLine (BeforeRule (Some 4294967295) (codes "c")) (NewRule (codes "x.o") Double (codes "-include2")))) ∷ on_line 4 Redo ∷ on_line 5 (Apply (AddLine (BeforeRule (Some 4294967295) (codes "c")) (NewAssign (codes "t") Conditional (codes "a 2 3")))) ∷ on_line 6 (Apply (ChangeValue (One None) (codes "A") (edits.Set (codes "$(s\\) c")))) ∷ on_line 7 Undo ∷ on_line 8 Begin ∷ on_line 9 (Apply (ChangePrereqs (Some 2) (codes "c") (RemovePrereq (codes "b")))) ∷ on_line 10 (Apply (RemoveLines (OfRule None (codes "c")))) ∷ on_line 11 (Apply (ChangeValue (One (Some 0)) (codes "define") (edits.Append (codes "a")))) ∷ on_line 12 (Apply (ChangeValue (One None) (codes "A") (edits.Set []))) ∷ [])) ∷  -- random-181
    (codes "depend $$ \"$(a b)\"\nrecipe  $$  define\nrecipe $$ \"e f \\\\ g\"\nnth\t1\trecipe-del\t.PHONY\t\"1\"\n rename \"%.c\" \"$(a b)\"\nrename -include2 %.c\nrecipe-set $(q:;=|) \"1\" \" a\"\nundo\nend\n", Ok (on_line 1 (Apply (ChangePrereqs None (codes "$$") (AddPrereq false (codes "$(a b)")))) ∷ on_line 2 (Apply (AddRecipe None (codes "$$") Last (codes "define"))) ∷ on_line 3 (Apply (AddRecipe None (codes "$$") Last (codes "e f \\ g"))) ∷ on_line 4 (Apply (RemoveLines (OfRecipe (Some 1) (codes ".PHONY") (ByNumber 1)))) ∷ on_line 5 (Apply (RenameTarget (codes "%.c") (codes "$(a b)"))) ∷ on_line 6 (Apply (RenameTarget (codes "-include2") (codes "%.c"))) ∷ on_line 7 (Apply (SetRecipe None (codes "$(q:;=|)") (ByNumber 1) (codes " a"))) ∷ on_line 8 Undo ∷ on_line 9 End ∷ [])) ∷  -- random-182
    (codes "recipe-del  \"$(a b)\"  \"2\"\nnth 001 unrule \"$(a b)\"\nundo\n\"depend-order\" $(s\\) \"%.o\"", Ok (on_line 1 (Apply (RemoveLines (OfRecipe None (codes "$(a b)") (ByNumber 2)))) ∷ on_line 2 (Apply (RemoveLines (OfRule (Some 1) (codes "$(a b)")))) ∷ on_line 3 Undo ∷ on_line 4 (Apply (ChangePrereqs None (codes "$(s\\)") (AddPrereq true (codes "%.o")))) ∷ [])) ∷  -- random-183
    (codes "set \".RECIPEPREFIX\" \"c %.o\"\n\"assign\" \"before-var\" .RECIPEPREFIX a.b \":=\" \"| $(f {)\"\nrecipe $(s\\) \"\tb\"\n\"unset\" .RECIPEPREFIX\nset \".RECIPEPREFIX\" \"= $(f {)\"\nrename t &\n", Ok (on_line 1 (Apply (ChangeValue (One None) (codes ".RECIPEPREFIX") (edits.Set (codes "c %.o")))) ∷ on_line 2 (Apply (AddLine (BeforeVar None (codes ".RECIPEPREFIX")) (NewAssign (codes "a.b") Simple (codes "| $(f {)")))) ∷ on_line 3 (Apply (AddRecipe None (codes "$(s\\)") Last (codes "\tb"))) ∷ on_line 4 (Apply (RemoveLines (OfAssign None (codes ".RECIPEPREFIX")))) ∷ on_line 5 (Apply (ChangeValue (One None) (codes ".RECIPEPREFIX") (edits.Set (codes "= $(f {)")))) ∷ on_line 6 (Apply (RenameTarget (codes "t") (codes "&"))) ∷ [])) ∷  -- random-185
    (codes "end\nrule  \"bottom\"  \"foo\"  \"::\"  \"%.o %.c\"\nset  Z  \"$(p #) $(q:;=|)\"\nunset  Z\n\"assign\"\tafter-var\tCC\tt1\t=\t\"\"\nrecipe y define\n\"undepend\" x.o $x\n", Ok (on_line 1 End ∷ on_line 2 (Apply (AddLine Bottom (NewRule (codes "foo") Double (codes "%.o %.c")))) ∷ on_line 3 (Apply (ChangeValue (One None) (codes "Z") (edits.Set (codes "$(p #) $(q:;=|)")))) ∷ on_line 4 (Apply (RemoveLines (OfAssign None (codes "Z")))) ∷ on_line 5 (Apply (AddLine (AfterVar None (codes "CC")) (NewAssign (codes "t1") Recursive []))) ∷ on_line 6 (Apply (AddRecipe None (codes "y") Last (codes "define"))) ∷ on_line 7 (Apply (ChangePrereqs None (codes "x.o") (RemovePrereq (codes "$x")))) ∷ [])) ∷  -- random-186
    (codes "rule\tbottom\tc\t\":\"\t\"$&\"\nassign bottom override \":=\" \"2 3 $#\"\nrule bottom a : \"\"\nassign bottom ifdef :::= \\$x\nrule bottom \"\" : \"\"\n\"assign\" before-var A t1 += \"b\"\nrule bottom \"$$\" :: \"\"\n", Ok (on_line 1 (Apply (AddLine Bottom (NewRule (codes "c") Single (codes "$&")))) ∷ on_line 2 (Apply (AddLine Bottom (NewAssign (codes "override") Simple (codes "2 3 $#")))) ∷ on_line 3 (Apply (AddLine Bottom (NewRule (codes "a") Single []))) ∷ on_line 4 (Apply (AddLine Bottom (NewAssign (codes "ifdef") Immediate (codes "\\$x")))) ∷ on_line 5 (Apply (AddLine Bottom (NewRule [] Single []))) ∷ on_line 6 (Apply (AddLine (BeforeVar None (codes "A")) (NewAssign (codes "t1") Append (codes "b")))) ∷ on_line 7 (Apply (AddLine Bottom (NewRule (codes "$$") Double []))) ∷ [])) ∷  -- random-187
    (codes "rule\tbefore-rule\t\"foo\"\tb\t\":\"\t.PHONY\nundepend b \".PHONY\"\n\"depend-order\" b \"foo\"\nunrule foo\nrename b x.o\ndepend  x.o  \"foo\"\n recipe-del x.o \"000\"\nrename x.o foo\n\"recipe\" foo q:=1\nrecipe foo q:=1\n", Ok (on_line 1 (Apply (AddLine (BeforeRule None (codes "foo")) (NewRule (codes "b") Single (codes ".PHONY")))) ∷ on_line 2 (Apply (ChangePrereqs None (codes "b") (RemovePrereq (codes ".PHONY")))) ∷ on_line 3 (Apply (ChangePrereqs None (codes "b") (AddPrereq true (codes "foo")))) ∷ on_line 4 (Apply (RemoveLines (OfRule None (codes "foo")))) ∷ on_line 5 (Apply (RenameTarget (codes "b") (codes "x.o"))) ∷ on_line 6 (Apply (ChangePrereqs None (codes "x.o") (AddPrereq false (codes "foo")))) ∷ on_line 7 (Apply (RemoveLines (OfRecipe None (codes "x.o") (ByNumber 0)))) ∷ on_line 8 (Apply (RenameTarget (codes "x.o") (codes "foo"))) ∷ on_line 9 (Apply (AddRecipe None (codes "foo") Last (codes "q:=1"))) ∷ on_line 10 (Apply (AddRecipe None (codes "foo") Last (codes "q:=1"))) ∷ [])) ∷  -- random-188
    (codes "assign before-rule b \">q\" :::= \"$(q:;=|) b\"\nnth 4294967295 recipe b \"y # z\"\nset CC |\nrecipe-del b 4294967295\nend", Ok (on_line 1 (Apply (AddLine (BeforeRule None (codes "b")) (NewAssign (codes ">q") Immediate (codes "$(q:;=|) b")))) ∷ on_line 2 (Apply (AddRecipe (Some 4294967295) (codes "b") Last (codes "y # z"))) ∷ on_line 3 (Apply (ChangeValue (One None) (codes "CC") (edits.Set (codes "|")))) ∷ on_line 4 (Apply (RemoveLines (OfRecipe None (codes "b") (ByNumber 4294967295)))) ∷ on_line 5 End ∷ [])) ∷  -- random-189
    (codes "assign bottom CC ?= \"\"\nend\nnth 0 append CC $(s\\)\nnth  1  rule  \"before-var\"  CC  a  \"::\"  $(q:;=|)\n\"nth\" 4294967295 \"unrule\" \"a&b\"\nunrule a\n nth 002 assign before-var \"CC\" t1 :::= \"\"\nassign bottom a.b := b\nset \"CC\" \"\"\n assign before-var >q t :::= \"$(f {) $x\"\nundo\n", Ok (on_line 1 (Apply (AddLine Bottom (NewAssign (codes "CC") Conditional []))) ∷ on_line 2 End ∷ on_line 3 (Apply (ChangeValue (One (Some 0)) (codes "CC") (edits.Append (codes "$(s\\)")))) ∷ on_line 4 (Apply (AddLine (BeforeVar (Some 1) (codes "CC")) (NewRule (codes "a") Double (codes "$(q:;=|)")))) ∷ on_line 5 (Apply (RemoveLines (OfRule (Some 4294967295) (codes "a&b")))) ∷ on_line 6 (Apply (RemoveLines (OfRule None (codes "a")))) ∷ on_line 7 (Apply (AddLine (BeforeVar (Some 2) (codes "CC")) (NewAssign (codes "t1") Immediate []))) ∷ on_line 8 (Apply (AddLine Bottom (NewAssign (codes "a.b") Simple (codes "b")))) ∷ on_line 9 (Apply (ChangeValue (One None) (codes "CC") (edits.Set []))) ∷ on_line 10 (Apply (AddLine (BeforeVar None (codes ">q")) (NewAssign (codes "t") Immediate (codes "$(f {) $x")))) ∷ on_line 11 Undo ∷ [])) ∷  -- random-190
    (codes "\"append\" \"aZ\" \"\"\r\nbegin\r\nappend \"aZ\" $#\r\nassign after-var \">Z\" X \"+=\" \"$$ \\\\$x\"\r\nredo\r\n", Ok (on_line 1 (Apply (ChangeValue (One None) (codes "aZ") (edits.Append []))) ∷ on_line 2 Begin ∷ on_line 3 (Apply (ChangeValue (One None) (codes "aZ") (edits.Append (codes "$#")))) ∷ on_line 4 (Apply (AddLine (AfterVar None (codes ">Z")) (NewAssign (codes "X") Append (codes "$$ \\$x")))) ∷ on_line 5 Redo ∷ [])) ∷  -- random-191
    (codes "recipe foo \"x\"\nbegin\nunrule foo\nrule\t\"bottom\"\ta&b\t::\t\"${g(} %.c\"\nundepend a&b $(q:;=|)", Ok (on_line 1 (Apply (AddRecipe None (codes "foo") Last (codes "x"))) ∷ on_line 2 Begin ∷ on_line 3 (Apply (RemoveLines (OfRule None (codes "foo")))) ∷ on_line 4 (Apply (AddLine Bottom (NewRule (codes "a&b") Double (codes "${g(} %.c")))) ∷ on_line 5 (Apply (ChangePrereqs None (codes "a&b") (RemovePrereq (codes "$(q:;=|)")))) ∷ [])) ∷  -- random-192
    (codes "assign bottom override += %.c\n\"append\"\t\"override\"\t\"| $#\"\nassign before-var override override \":::=\" \"\"\nnth 001 rule after-var override \"$(q:;=|) c\" \"::\" \"\"\nrecipe-del \"c\" 2\n nth 1 assign after-var \"override\" A \"?=\" a\\:b\nbegin\nrename c ${c}\nrename t ${v\nundepend  ${c}  \"x.o\"\nnth 2 \"assign\" before-var override t ?= \"\"\nnth 2 unset override\n", Ok (on_line 1 (Apply (AddLine Bottom (NewAssign (codes "override") Append (codes "%.c")))) ∷ on_line 2 (Apply (ChangeValue (One None) (codes "override") (edits.Append (codes "| $#")))) ∷ on_line 3 (Apply (AddLine (BeforeVar None (codes "override")) (NewAssign (codes "override") Immediate []))) ∷ on_line 4 (Apply (AddLine (AfterVar (Some 1) (codes "override")) (NewRule (codes "$(q:;=|) c") Double []))) ∷ on_line 5 (Apply (RemoveLines (OfRecipe None (codes "c") (ByNumber 2)))) ∷ on_line 6 (Apply (AddLine (AfterVar (Some 1) (codes "override")) (NewAssign (codes "A") Conditional (codes "a\\:b")))) ∷ on_line 7 Begin ∷ on_line 8 (Apply (RenameTarget (codes "c") (codes "${c}"))) ∷ on_line 9 (Apply (RenameTarget (codes "t") (codes "${v"))) ∷ on_line 10 (Apply (ChangePrereqs None (codes "${c}") (RemovePrereq (codes "x.o")))) ∷ on_line 11 (Apply (AddLine (BeforeVar (Some 2) (codes "override")) (NewAssign (codes "t") Conditional []))) ∷ on_line 12 (Apply (RemoveLines (OfAssign (Some 2) (codes "override")))) ∷ [])) ∷  -- random-193
    (codes "nth 1 recipe -include2 >\n rename %.c \"$(p #)\"\nnth 0 recipe -include2 \" a\"\nredo\n\"depend-order\"\t\"-include2\"\t${c}\n", Ok (on_line 1 (Apply (AddRecipe (Some 1) (codes "-include2") Last (codes ">"))) ∷ on_line 2 (Apply (RenameTarget (codes "%.c") (codes "$(p #)"))) ∷ on_line 3 (Apply (AddRecipe (Some 0) (codes "-include2") Last (codes " a"))) ∷ on_line 4 Redo ∷ on_line 5 (Apply (ChangePrereqs None (codes "-include2") (AddPrereq true (codes "${c}")))) ∷ [])) ∷  -- random-194
    (codes "\"depend\" $(q:;=|) .PHONY\r\n", Ok (on_line 1 (Apply (ChangePrereqs None (codes "$(q:;=|)") (AddPrereq false (codes ".PHONY")))) ∷ [])) ∷  -- random-195
    (codes "cancel\nundo\nredo\nend\nset \".RECIPEPREFIX\" \\$x\nnth \"002\" unset .RECIPEPREFIX\n", Ok (on_line 1 Cancel ∷ on_line 2 Undo ∷ on_line 3 Redo ∷ on_line 4 End ∷ on_line 5 (Apply (ChangeValue (One None) (codes ".RECIPEPREFIX") (edits.Set (codes "\\$x")))) ∷ on_line 6 (Apply (RemoveLines (OfAssign (Some 2) (codes ".RECIPEPREFIX")))) ∷ [])) ∷  -- random-196
    (codes "nth\t1\tunset\t\".RECIPEPREFIX\"\nassign bottom endef ?= \"| \\\\$x\"\nunrule $x\n", Ok (on_line 1 (Apply (RemoveLines (OfAssign (Some 1) (codes ".RECIPEPREFIX")))) ∷ on_line 2 (Apply (AddLine Bottom (NewAssign (codes "endef") Conditional (codes "| \\$x")))) ∷ on_line 3 (Apply (RemoveLines (OfRule None (codes "$x")))) ∷ [])) ∷  -- random-197
    (codes "recipe a t\ncancel\nundo\nundepend\ta\t.PHONY\n", Ok (on_line 1 (Apply (AddRecipe None (codes "a") Last (codes "t"))) ∷ on_line 2 Cancel ∷ on_line 3 Undo ∷ on_line 4 (Apply (ChangePrereqs None (codes "a") (RemovePrereq (codes ".PHONY")))) ∷ [])) ∷  -- random-198
    (codes "nth 1 \"set\" define \"$(p #)\"\nend\ndepend x.o .PHONY\n\"rule\" \"before-var\" define \\ : \"\"\nundo\nredo\nrule before-rule x.o .PHONY :: \"a&b x.o\"\nrecipe-del $$ 4294967295\nbegin\nrecipe-del x.o 001\nbegin\n recipe-set x.o 000 q:=1\n", Ok (on_line 1 (Apply (ChangeValue (One (Some 1)) (codes "define") (edits.Set (codes "$(p #)")))) ∷ on_line 2 End ∷ on_line 3 (Apply (ChangePrereqs None (codes "x.o") (AddPrereq false (codes ".PHONY")))) ∷ on_line 4 (Apply (AddLine (BeforeVar None (codes "define")) (NewRule (codes "\\") Single []))) ∷ on_line 5 Undo ∷ on_line 6 Redo ∷ on_line 7 (Apply (AddLine (BeforeRule None (codes "x.o")) (NewRule (codes ".PHONY") Double (codes "a&b x.o")))) ∷ on_line 8 (Apply (RemoveLines (OfRecipe None (codes "$$") (ByNumber 4294967295)))) ∷ on_line 9 Begin ∷ on_line 10 (Apply (RemoveLines (OfRecipe None (codes "x.o") (ByNumber 1)))) ∷ on_line 11 Begin ∷ on_line 12 (Apply (SetRecipe None (codes "x.o") (ByNumber 0) (codes "q:=1"))) ∷ [])) ∷  -- random-199
    (codes "unrule \"x.o\"\n rule \"before-var\" >q \"$(s\\\\) $x\" :: define\nend\nundo", Ok (on_line 1 (Apply (RemoveLines (OfRule None (codes "x.o")))) ∷ on_line 2 (Apply (AddLine (BeforeVar None (codes ">q")) (NewRule (codes "$(s\\) $x") Double (codes "define")))) ∷ on_line 3 End ∷ on_line 4 Undo ∷ [])) ∷  -- random-200
    (codes " \"nth\" \"4294967295\" assign before-rule y \"CC\" != \"\\\\#\"\nunset  endef\nundo\n\"recipe-del\" x.o 2\n", Ok (on_line 1 (Apply (AddLine (BeforeRule (Some 4294967295) (codes "y")) (NewAssign (codes "CC") Shell (codes "\\#")))) ∷ on_line 2 (Apply (RemoveLines (OfAssign None (codes "endef")))) ∷ on_line 3 Undo ∷ on_line 4 (Apply (RemoveLines (OfRecipe None (codes "x.o") (ByNumber 2)))) ∷ [])) ∷  -- random-201
    (codes "undo", Ok (on_line 1 Undo ∷ [])) ∷  -- random-202
    (codes "depend-order \"y\" \"$(p #)\"", Ok (on_line 1 (Apply (ChangePrereqs None (codes "y") (AddPrereq true (codes "$(p #)")))) ∷ [])) ∷  -- random-203
    (codes "assign bottom t :::= \"\"\r\nrule \"before-rule\" %.o \"\" :: \"\"\r\nunset t\r\n\"rule\" bottom \"foo foo\" : \"${c}\"\r\nrule bottom \"\" :: \"$$ foo\"\r\n\"undepend\" foo \"${c}\"", Ok (on_line 1 (Apply (AddLine Bottom (NewAssign (codes "t") Immediate []))) ∷ on_line 2 (Apply (AddLine (BeforeRule None (codes "%.o")) (NewRule [] Double []))) ∷ on_line 3 (Apply (RemoveLines (OfAssign None (codes "t")))) ∷ on_line 4 (Apply (AddLine Bottom (NewRule (codes "foo foo") Single (codes "${c}")))) ∷ on_line 5 (Apply (AddLine Bottom (NewRule [] Double (codes "$$ foo")))) ∷ on_line 6 (Apply (ChangePrereqs None (codes "foo") (RemovePrereq (codes "${c}")))) ∷ [])) ∷  -- random-204
    (codes "\"rename\"  c  a&b\nunrule \"$$\"\nnth 1 recipe-del \"%.c\" 1\n recipe \"%.c\" \"y # z\"\nend\nrecipe-del %.c 001\nnth \"000\" undepend %.c %.c\n\"rule\" bottom a :: \"$(p #) $(p #)\"\nnth \"1\" \"rule\" \"before-rule\" \"a\" \"foo $(q:;=|)\" : x.o\n", Ok (on_line 1 (Apply (RenameTarget (codes "c") (codes "a&b"))) ∷ on_line 2 (Apply (RemoveLines (OfRule None (codes "$$")))) ∷ on_line 3 (Apply (RemoveLines (OfRecipe (Some 1) (codes "%.c") (ByNumber 1)))) ∷ on_line 4 (Apply (AddRecipe None (codes "%.c") Last (codes "y # z"))) ∷ on_line 5 End ∷ on_line 6 (Apply (RemoveLines (OfRecipe None (codes "%.c") (ByNumber 1)))) ∷ on_line 7 (Apply (ChangePrereqs (Some 0) (codes "%.c") (RemovePrereq (codes "%.c")))) ∷ on_line 8 (Apply (AddLine Bottom (NewRule (codes "a") Double (codes "$(p #) $(p #)")))) ∷ on_line 9 (Apply (AddLine (BeforeRule (Some 1) (codes "a")) (NewRule (codes "foo $(q:;=|)") Single (codes "x.o")))) ∷ [])) ∷  -- random-205
    (codes "\"undepend\" $\\ $(q:;=|)\r\nunset \"define\"\r\nassign after-var .RECIPEPREFIX >q = \": .PHONY\"\r\nunset .RECIPEPREFIX\r\nnth 0 append \".RECIPEPREFIX\" %.c\r\n", Ok (on_line 1 (Apply (ChangePrereqs None (codes "$\\") (RemovePrereq (codes "$(q:;=|)")))) ∷ on_line 2 (Apply (RemoveLines (OfAssign None (codes "define")))) ∷ on_line 3 (Apply (AddLine (AfterVar None (codes ".RECIPEPREFIX")) (NewAssign (codes ">q") Recursive (codes ": .PHONY")))) ∷ on_line 4 (Apply (RemoveLines (OfAssign None (codes ".RECIPEPREFIX")))) ∷ on_line 5 (Apply (ChangeValue (One (Some 0)) (codes ".RECIPEPREFIX") (edits.Append (codes "%.c")))) ∷ [])) ∷  -- random-206
    (codes "rename a foo\ncancel\ndepend foo \"$(a b)\"\nundepend foo \"$(a b)\"\nset\tCC\tc\nset \"CC\" \\#\n\"assign\"  bottom  t  :::=  \"\"\nrecipe foo $(\n", Ok (on_line 1 (Apply (RenameTarget (codes "a") (codes "foo"))) ∷ on_line 2 Cancel ∷ on_line 3 (Apply (ChangePrereqs None (codes "foo") (AddPrereq false (codes "$(a b)")))) ∷ on_line 4 (Apply (ChangePrereqs None (codes "foo") (RemovePrereq (codes "$(a b)")))) ∷ on_line 5 (Apply (ChangeValue (One None) (codes "CC") (edits.Set (codes "c")))) ∷ on_line 6 (Apply (ChangeValue (One None) (codes "CC") (edits.Set (codes "\\#")))) ∷ on_line 7 (Apply (AddLine Bottom (NewAssign (codes "t") Immediate []))) ∷ on_line 8 (Apply (AddRecipe None (codes "foo") Last (codes "$("))) ∷ [])) ∷  -- random-207
    (codes "redo\nrecipe-del a -1", Err 2) ∷  -- random-208
    (codes " \"rename\"\ta\ta&b\n\"assign\"  before-rule  $x  Y  \"=\"  \"\\\\$x ${g(}\"\nrecipe $x \"cÿ\"\nrecipe $x $(\n\"unrule\" a&b\nend\nnth 002 rule before-var override .PHONY : \"c $(f {)\"\n\"recipe\" .PHONY \"define\"\ncancel\n\"nth\"  \"001\"  set  override  \"\"\n", Ok (on_line 1 (Apply (RenameTarget (codes "a") (codes "a&b"))) ∷ on_line 2 (Apply (AddLine (BeforeRule None (codes "$x")) (NewAssign (codes "Y") Recursive (codes "\\$x ${g(}")))) ∷ on_line 3 (Apply (AddRecipe None (codes "$x") Last (codes "cÿ"))) ∷ on_line 4 (Apply (AddRecipe None (codes "$x") Last (codes "$("))) ∷ on_line 5 (Apply (RemoveLines (OfRule None (codes "a&b")))) ∷ on_line 6 End ∷ on_line 7 (Apply (AddLine (BeforeVar (Some 2) (codes "override")) (NewRule (codes ".PHONY") Single (codes "c $(f {)")))) ∷ on_line 8 (Apply (AddRecipe None (codes ".PHONY") Last (codes "define"))) ∷ on_line 9 Cancel ∷ on_line 10 (Apply (ChangeValue (One (Some 1)) (codes "override") (edits.Set []))) ∷ [])) ∷  -- random-209
    (codes "nth 2 set define \"b\"\r\nundo\r\n\"nth\" \"0\" rule after-var define \"\" :: \"\"\r\n", Ok (on_line 1 (Apply (ChangeValue (One (Some 2)) (codes "define") (edits.Set (codes "b")))) ∷ on_line 2 Undo ∷ on_line 3 (Apply (AddLine (AfterVar (Some 0) (codes "define")) (NewRule [] Double []))) ∷ [])) ∷  -- random-210
    (codes "rule bottom a : \"$(p #) a&b\"\n\"recipe\" a a\\\nundo\n rename %.o \".PHONY\"\nrule bottom $(s\\) :: \"\"\nunset \"X$ \"\n nth 000 unset ifdef\nundo\n", Ok (on_line 1 (Apply (AddLine Bottom (NewRule (codes "a") Single (codes "$(p #) a&b")))) ∷ on_line 2 (Apply (AddRecipe None (codes "a") Last (codes "a\\"))) ∷ on_line 3 Undo ∷ on_line 4 (Apply (RenameTarget (codes "%.o") (codes ".PHONY"))) ∷ on_line 5 (Apply (AddLine Bottom (NewRule (codes "$(s\\)") Double []))) ∷ on_line 6 (Apply (RemoveLines (OfAssign None (codes "X$ ")))) ∷ on_line 7 (Apply (RemoveLines (OfAssign (Some 0) (codes "ifdef")))) ∷ on_line 8 Undo ∷ [])) ∷  -- random-211
    (codes "undo\nassign before-var -x_9 >q \":::=\" %.o\nundo\nappend\t-x_9\t\"%.c $x\"\nassign bottom CC = \"$(f {)\"\nnth 000 \"depend-order\" ${c} $(q:;=|)\n unrule \"${g(}\"\nnth 000 \"set\" -x_9 \"x.o\"", Ok (on_line 1 Undo ∷ on_line 2 (Apply (AddLine (BeforeVar None (codes "-x_9")) (NewAssign (codes ">q") Immediate (codes "%.o")))) ∷ on_line 3 Undo ∷ on_line 4 (Apply (ChangeValue (One None) (codes "-x_9") (edits.Append (codes "%.c $x")))) ∷ on_line 5 (Apply (AddLine Bottom (NewAssign (codes "CC") Recursive (codes "$(f {)")))) ∷ on_line 6 (Apply (ChangePrereqs (Some 0) (codes "${c}") (AddPrereq true (codes "$(q:;=|)")))) ∷ on_line 7 (Apply (RemoveLines (OfRule None (codes "${g(}")))) ∷ on_line 8 (Apply (ChangeValue (One (Some 0)) (codes "-x_9") (edits.Set (codes "x.o")))) ∷ [])) ∷  -- random-212
    (codes "end\nrule\tbottom\tt\t::\t\"%.c $(f {)\"\nnth  0  append  X  \"$(p #)\"\n", Ok (on_line 1 End ∷ on_line 2 (Apply (AddLine Bottom (NewRule (codes "t") Double (codes "%.c $(f {)")))) ∷ on_line 3 (Apply (ChangeValue (One (Some 0)) (codes "X") (edits.Append (codes "$(p #)")))) ∷ [])) ∷  -- random-213
    (codes "assign bottom >q :::= \"$(p #) \\\\#\"\n\"rule\" bottom \"%.c c\" :: \"\"\nrecipe-del %.c \"1\"\n nth 2 unset a.b\nrecipe-set \"%.c\" 001 \" a\"\n recipe-set c 4294967295 \"\r\"\nnth 000 recipe-set foo 4294967295 \"y # z\"\n\"depend-order\" foo \"%.c\"\n rename c .PHONY\n", Ok (on_line 1 (Apply (AddLine Bottom (NewAssign (codes ">q") Immediate (codes "$(p #) \\#")))) ∷ on_line 2 (Apply (AddLine Bottom (NewRule (codes "%.c c") Double []))) ∷ on_line 3 (Apply (RemoveLines (OfRecipe None (codes "%.c") (ByNumber 1)))) ∷ on_line 4 (Apply (RemoveLines (OfAssign (Some 2) (codes "a.b")))) ∷ on_line 5 (Apply (SetRecipe None (codes "%.c") (ByNumber 1) (codes " a"))) ∷ on_line 6 (Apply (SetRecipe None (codes "c") (ByNumber 4294967295) (codes "\r"))) ∷ on_line 7 (Apply (SetRecipe (Some 0) (codes "foo") (ByNumber 4294967295) (codes "y # z"))) ∷ on_line 8 (Apply (ChangePrereqs None (codes "foo") (AddPrereq true (codes "%.c")))) ∷ on_line 9 (Apply (RenameTarget (codes "c") (codes ".PHONY"))) ∷ [])) ∷  -- random-214
    (codes "rename  foo  -include2\nrecipe -include2 t", Ok (on_line 1 (Apply (RenameTarget (codes "foo") (codes "-include2"))) ∷ on_line 2 (Apply (AddRecipe None (codes "-include2") Last (codes "t"))) ∷ [])) ∷  -- random-215
    (codes "nth 000 set >q \"\\\\$x\"\nundo\nassign after-var >q \"Y\" \"=\" c\nnth 2 rule before-var >q \"$x\" : \"b $(q:;=|)\"\nundo\nnth 001 unset \">q\"\nunset >q\nset  >q  \"%.ca\"\nundo\nend", Ok (on_line 1 (Apply (ChangeValue (One (Some 0)) (codes ">q") (edits.Set (codes "\\$x")))) ∷ on_line 2 Undo ∷ on_line 3 (Apply (AddLine (AfterVar None (codes ">q")) (NewAssign (codes "Y") Recursive (codes "c")))) ∷ on_line 4 (Apply (AddLine (BeforeVar (Some 2) (codes ">q")) (NewRule (codes "$x") Single (codes "b $(q:;=|)")))) ∷ on_line 5 Undo ∷ on_line 6 (Apply (RemoveLines (OfAssign (Some 1) (codes ">q")))) ∷ on_line 7 (Apply (RemoveLines (OfAssign None (codes ">q")))) ∷ on_line 8 (Apply (ChangeValue (One None) (codes ">q") (edits.Set (codes "%.ca")))) ∷ on_line 9 Undo ∷ on_line 10 End ∷ [])) ∷  -- random-216
    (codes "unset .RECIPEPREFIX\nnth 2 undepend foo $(q:;=|)\nassign before-var CC a.b := b\nbegin\nnth 2 \"assign\" after-var .RECIPEPREFIX CC :::= \"\"\nrename a ${c}\nassign before-var ifdef a.b = \".PHONY =\"\nundepend \"c\" \"%.o\"\n", Ok (on_line 1 (Apply (RemoveLines (OfAssign None (codes ".RECIPEPREFIX")))) ∷ on_line 2 (Apply (ChangePrereqs (Some 2) (codes "foo") (RemovePrereq (codes "$(q:;=|)")))) ∷ on_line 3 (Apply (AddLine (BeforeVar None (codes "CC")) (NewAssign (codes "a.b") Simple (codes "b")))) ∷ on_line 4 Begin ∷ on_line 5 (Apply (AddLine (AfterVar (Some 2) (codes ".RECIPEPREFIX")) (NewAssign (codes "CC") Immediate []))) ∷ on_line 6 (Apply (RenameTarget (codes "a") (codes "${c}"))) ∷ on_line 7 (Apply (AddLine (BeforeVar None (codes "ifdef")) (NewAssign (codes "a.b") Recursive (codes ".PHONY =")))) ∷ on_line 8 (Apply (ChangePrereqs None (codes "c") (RemovePrereq (codes "%.o")))) ∷ [])) ∷  -- random-217
    (codes "nth 4294967295 set X$: \"2 3\"\nappend X$: \"t ${g(}\"\n\"nth\"\t001\tappend\tdefine\t$$\ncancel\n", Ok (on_line 1 (Apply (ChangeValue (One (Some 4294967295)) (codes "X$:") (edits.Set (codes "2 3")))) ∷ on_line 2 (Apply (ChangeValue (One None) (codes "X$:") (edits.Append (codes "t ${g(}")))) ∷ on_line 3 (Apply (ChangeValue (One (Some 1)) (codes "define") (edits.Append (codes "$$")))) ∷ on_line 4 Cancel ∷ [])) ∷  -- random-218
    (codes "rename \"x.o\" $(q:;=|)\nrecipe-set $(q:;=|) 2 define\nrule before-rule a&b \"$(s\\\\) $(a b)\" :: \"\"\nundo\nassign before-var endef endef += \"-include2 -include2\"\n\"recipe\" \"$(a b)\" $(\nrename \"$(a b)\" a\n", Ok (on_line 1 (Apply (RenameTarget (codes "x.o") (codes "$(q:;=|)"))) ∷ on_line 2 (Apply (SetRecipe None (codes "$(q:;=|)") (ByNumber 2) (codes "define"))) ∷ on_line 3 (Apply (AddLine (BeforeRule None (codes "a&b")) (NewRule (codes "$(s\\) $(a b)") Double []))) ∷ on_line 4 Undo ∷ on_line 5 (Apply (AddLine (BeforeVar None (codes "endef")) (NewAssign (codes "endef") Append (codes "-include2 -include2")))) ∷ on_line 6 (Apply (AddRecipe None (codes "$(a b)") Last (codes "$("))) ∷ on_line 7 (Apply (RenameTarget (codes "$(a b)") (codes "a"))) ∷ [])) ∷  -- random-219
    (codes "rule  bottom  a&b  \":\"  a&b\nassign \"before-rule\" a&b X \"?=\" a&b\nundo\nnth 4294967295 recipe-set a&b 000 \"y # z\"\nrecipe-set a&b 4294967295 \"$(\"\nundo\nassign  before-rule  a&b  override  ?=  \"$(s\\\\) %.c\"\n\"recipe-set\" \"b\" 4294967295 \"e f \\\\ g\"\nrule\tbottom\t$(s\\)\t::\ta\n\"rename\" %.o \"t\"\n\"nth\" 2 rule before-rule $(s\\) \"\" \"::\" \"\"\n undepend $(s\\) a\n", Ok (on_line 1 (Apply (AddLine Bottom (NewRule (codes "a&b") Single (codes "a&b")))) ∷ on_line 2 (Apply (AddLine (BeforeRule None (codes "a&b")) (NewAssign (codes "X") Conditional (codes "a&b")))) ∷ on_line 3 Undo ∷ on_line 4 (Apply (SetRecipe (Some 4294967295) (codes "a&b") (ByNumber 0) (codes "y # z"))) ∷ on_line 5 (Apply (SetRecipe None (codes "a&b") (ByNumber 4294967295) (codes "$("))) ∷ on_line 6 Undo ∷ on_line 7 (Apply (AddLine (BeforeRule None (codes "a&b")) (NewAssign (codes "override") Conditional (codes "$(s\\) %.c")))) ∷ on_line 8 (Apply (SetRecipe None (codes "b") (ByNumber 4294967295) (codes "e f \\ g"))) ∷ on_line 9 (Apply (AddLine Bottom (NewRule (codes "$(s\\)") Double (codes "a")))) ∷ on_line 10 (Apply (RenameTarget (codes "%.o") (codes "t"))) ∷ on_line 11 (Apply (AddLine (BeforeRule (Some 2) (codes "$(s\\)")) (NewRule [] Double []))) ∷ on_line 12 (Apply (ChangePrereqs None (codes "$(s\\)") (RemovePrereq (codes "a")))) ∷ [])) ∷  -- random-220
    (codes "undepend \"$(f {)\" .PHONY\n\"assign\" before-rule \"$(f {)\" override ::= ${c}\nunset override\ndepend-order \"$(f {)\" \"a\"\n\"set\" endef \"\"\nnth 0 \"assign\" before-rule \"$(f {)\" A += \"\"\n\"recipe\"  \"$(f {)\"  \" a\"\nrule bottom \"$(p #) c\" :: \"a $(q:;=|)\"\nunrule \"$(p #)\"", Ok (on_line 1 (Apply (ChangePrereqs None (codes "$(f {)") (RemovePrereq (codes ".PHONY")))) ∷ on_line 2 (Apply (AddLine (BeforeRule None (codes "$(f {)")) (NewAssign (codes "override") PosixSimple (codes "${c}")))) ∷ on_line 3 (Apply (RemoveLines (OfAssign None (codes "override")))) ∷ on_line 4 (Apply (ChangePrereqs None (codes "$(f {)") (AddPrereq true (codes "a")))) ∷ on_line 5 (Apply (ChangeValue (One None) (codes "endef") (edits.Set []))) ∷ on_line 6 (Apply (AddLine (BeforeRule (Some 0) (codes "$(f {)")) (NewAssign (codes "A") Append []))) ∷ on_line 7 (Apply (AddRecipe None (codes "$(f {)") Last (codes " a"))) ∷ on_line 8 (Apply (AddLine Bottom (NewRule (codes "$(p #) c") Double (codes "a $(q:;=|)")))) ∷ on_line 9 (Apply (RemoveLines (OfRule None (codes "$(p #)")))) ∷ [])) ∷  -- random-221
    []

answers_4 : map (λ row. read_script row.0) rows_4 ≡ map (λ row. row.1) rows_4
unfolding line_len lines_from
answers_4 = refl

abbrev rows_5 : List (List ℕ × Result (List Step) ℕ)
rows_5 =
    (codes "assign bottom t1 ?= \"a&b c\"\nunset .RECIPEPREFIX\nrecipe-del  de2  4294967295\n\"unrule\" de2\nrule before-var t1 \"-include2\" : \"\"\n", Ok (on_line 1 (Apply (AddLine Bottom (NewAssign (codes "t1") Conditional (codes "a&b c")))) ∷ on_line 2 (Apply (RemoveLines (OfAssign None (codes ".RECIPEPREFIX")))) ∷ on_line 3 (Apply (RemoveLines (OfRecipe None (codes "de2") (ByNumber 4294967295)))) ∷ on_line 4 (Apply (RemoveLines (OfRule None (codes "de2")))) ∷ on_line 5 (Apply (AddLine (BeforeVar None (codes "t1")) (NewRule (codes "-include2") Single []))) ∷ [])) ∷  -- random-222
    (codes "\"recipe-set\" a 1 >\nbegin\nset\tifdef\tfoo\nundo\ndepend a -include2\nundo\n", Ok (on_line 1 (Apply (SetRecipe None (codes "a") (ByNumber 1) (codes ">"))) ∷ on_line 2 Begin ∷ on_line 3 (Apply (ChangeValue (One None) (codes "ifdef") (edits.Set (codes "foo")))) ∷ on_line 4 Undo ∷ on_line 5 (Apply (ChangePrereqs None (codes "a") (AddPrereq false (codes "-include2")))) ∷ on_line 6 Undo ∷ [])) ∷  -- random-223
    (codes "undo\nundo\nunrule \"a\"\nrule bottom foo : c\n\"undepend\" \"foo\" c\nunrule foo\nrule bottom $(s\\) :: \"\"\nrecipe $(s\\) t\nunrule $(s\\)\n\"rule\" \"bottom\" \"$x foo\" \"::\" \"\"\nset override a\\:b\nnth 1 \"unrule\" foo\n", Ok (on_line 1 Undo ∷ on_line 2 Undo ∷ on_line 3 (Apply (RemoveLines (OfRule None (codes "a")))) ∷ on_line 4 (Apply (AddLine Bottom (NewRule (codes "foo") Single (codes "c")))) ∷ on_line 5 (Apply (ChangePrereqs None (codes "foo") (RemovePrereq (codes "c")))) ∷ on_line 6 (Apply (RemoveLines (OfRule None (codes "foo")))) ∷ on_line 7 (Apply (AddLine Bottom (NewRule (codes "$(s\\)") Double []))) ∷ on_line 8 (Apply (AddRecipe None (codes "$(s\\)") Last (codes "t"))) ∷ on_line 9 (Apply (RemoveLines (OfRule None (codes "$(s\\)")))) ∷ on_line 10 (Apply (AddLine Bottom (NewRule (codes "$x foo") Double []))) ∷ on_line 11 (Apply (ChangeValue (One None) (codes "override") (edits.Set (codes "a\\:b")))) ∷ on_line 12 (Apply (RemoveLines (OfRule (Some 1) (codes "foo")))) ∷ [])) ∷  -- random-225
    (codes "rename  \"%.c\"  x.o\r\nbegin\r\n", Ok (on_line 1 (Apply (RenameTarget (codes "%.c") (codes "x.o"))) ∷ on_line 2 Begin ∷ [])) ∷  -- random-226
    (codes "redo\n", Ok (on_line 1 Redo ∷ [])) ∷  -- random-227
    (codes "undo\nassign bottom ifdef \"::=\" \"$(f {)\"\n \"unset\" ifdef\nbegin\nundo\nassign bottom X ::= \"$(a b)\"", Ok (on_line 1 Undo ∷ on_line 2 (Apply (AddLine Bottom (NewAssign (codes "ifdef") PosixSimple (codes "$(f {)")))) ∷ on_line 3 (Apply (RemoveLines (OfAssign None (codes "ifdef")))) ∷ on_line 4 Begin ∷ on_line 5 Undo ∷ on_line 6 (Apply (AddLine Bottom (NewAssign (codes "X") PosixSimple (codes "$(a b)")))) ∷ [])) ∷  -- random-228
    (codes " nth 2 append \"endef\" t\nbegin\n\"unset\"  endef\nrule \"bottom\" \"b\" :: x.o\nrename\tb\tb\n \"rename\" \"b\" \"foo\"\nundo\nundepend \"foo\" x.o\nunrule foo\nrule bottom b :: \"%.o foo\"", Ok (on_line 1 (Apply (ChangeValue (One (Some 2)) (codes "endef") (edits.Append (codes "t")))) ∷ on_line 2 Begin ∷ on_line 3 (Apply (RemoveLines (OfAssign None (codes "endef")))) ∷ on_line 4 (Apply (AddLine Bottom (NewRule (codes "b") Double (codes "x.o")))) ∷ on_line 5 (Apply (RenameTarget (codes "b") (codes "b"))) ∷ on_line 6 (Apply (RenameTarget (codes "b") (codes "foo"))) ∷ on_line 7 Undo ∷ on_line 8 (Apply (ChangePrereqs None (codes "foo") (RemovePrereq (codes "x.o")))) ∷ on_line 9 (Apply (RemoveLines (OfRule None (codes "foo")))) ∷ on_line 10 (Apply (AddLine Bottom (NewRule (codes "b") Double (codes "%.o foo")))) ∷ [])) ∷  -- random-229
    (codes " recipe-del ${g(} 001\nassign bottom X = ${g(}\nassign before-var X t1 += x.o", Ok (on_line 1 (Apply (RemoveLines (OfRecipe None (codes "${g(}") (ByNumber 1)))) ∷ on_line 2 (Apply (AddLine Bottom (NewAssign (codes "X") Recursive (codes "${g(}")))) ∷ on_line 3 (Apply (AddLine (BeforeVar None (codes "X")) (NewAssign (codes "t1") Append (codes "x.o")))) ∷ [])) ∷  -- random-230
    (codes "assign bottom t1 ?= \"$x ;\"\nbegin\nappend t1 \"= \\\\#\"\nnth 0 unset t1\n\"nth\" 0 \"set\" t1 \"\"\nnth\t\"001\"\trule\tafter-var\tt1\t\"-include2 c\"\t\"::\"\t\"%.o b\"\nset\t\"t1\"\t\"\"\nappend \"endef\" \"$$\"\nbegin\nset t1 ${g(}\nrecipe-set c 1 \"\tb\"\nrecipe c cÿ\n", Ok (on_line 1 (Apply (AddLine Bottom (NewAssign (codes "t1") Conditional (codes "$x ;")))) ∷ on_line 2 Begin ∷ on_line 3 (Apply (ChangeValue (One None) (codes "t1") (edits.Append (codes "= \\#")))) ∷ on_line 4 (Apply (RemoveLines (OfAssign (Some 0) (codes "t1")))) ∷ on_line 5 (Apply (ChangeValue (One (Some 0)) (codes "t1") (edits.Set []))) ∷ on_line 6 (Apply (AddLine (AfterVar (Some 1) (codes "t1")) (NewRule (codes "-include2 c") Double (codes "%.o b")))) ∷ on_line 7 (Apply (ChangeValue (One None) (codes "t1") (edits.Set []))) ∷ on_line 8 (Apply (ChangeValue (One None) (codes "endef") (edits.Append (codes "$$")))) ∷ on_line 9 Begin ∷ on_line 10 (Apply (ChangeValue (One None) (codes "t1") (edits.Set (codes "${g(}")))) ∷ on_line 11 (Apply (SetRecipe None (codes "c") (ByNumber 1) (codes "\tb"))) ∷ on_line 12 (Apply (AddRecipe None (codes "c") Last (codes "cÿ"))) ∷ [])) ∷  -- random-231
    (codes "rename \".PHONY\" t\nend\nundo\n", Ok (on_line 1 (Apply (RenameTarget (codes ".PHONY") (codes "t"))) ∷ on_line 2 End ∷ on_line 3 Undo ∷ [])) ∷  -- random-232
    (codes "set .RECIPEPREFIX ${c}\nassign bottom t ::= \"\"\nnth 0 unset .RECIPEPREFIX\nend\nrule before-var a\\= $x : \"${g(} %.o\"\nrule after-var \"t1\" .PHONY : c\n\"set\" a\\= foo\n", Ok (on_line 1 (Apply (ChangeValue (One None) (codes ".RECIPEPREFIX") (edits.Set (codes "${c}")))) ∷ on_line 2 (Apply (AddLine Bottom (NewAssign (codes "t") PosixSimple []))) ∷ on_line 3 (Apply (RemoveLines (OfAssign (Some 0) (codes ".RECIPEPREFIX")))) ∷ on_line 4 End ∷ on_line 5 (Apply (AddLine (BeforeVar None (codes "a\\=")) (NewRule (codes "$x") Single (codes "${g(} %.o")))) ∷ on_line 6 (Apply (AddLine (AfterVar None (codes "t1")) (NewRule (codes ".PHONY") Single (codes "c")))) ∷ on_line 7 (Apply (ChangeValue (One None) (codes "a\\=") (edits.Set (codes "foo")))) ∷ [])) ∷  -- random-233
    (codes "nth \"000\" undepend \"a\" a\n\"append\" a.b \"\"\nundo\nset a.b $#\n", Ok (on_line 1 (Apply (ChangePrereqs (Some 0) (codes "a") (RemovePrereq (codes "a")))) ∷ on_line 2 (Apply (ChangeValue (One None) (codes "a.b") (edits.Append []))) ∷ on_line 3 Undo ∷ on_line 4 (Apply (ChangeValue (One None) (codes "a.b") (edits.Set (codes "$#")))) ∷ [])) ∷  -- random-234
    (codes "rename foo \"$(f {)\"\ndepend\t\"$(f {)\"\t\"$(p #)\"\nrecipe \"c\" \"e f \\\\ g\"\nrename \"$(p #)\" t\nredo\n", Ok (on_line 1 (Apply (RenameTarget (codes "foo") (codes "$(f {)"))) ∷ on_line 2 (Apply (ChangePrereqs None (codes "$(f {)") (AddPrereq false (codes "$(p #)")))) ∷ on_line 3 (Apply (AddRecipe None (codes "c") Last (codes "e f \\ g"))) ∷ on_line 4 (Apply (RenameTarget (codes "$(p #)") (codes "t"))) ∷ on_line 5 Redo ∷ [])) ∷  -- random-235
    (codes "undepend $$ $x\r\nrecipe $$ \"e f \\\\ g\"\r\nrule before-var CC \"c\" :: \"\"\r\nend\r\nrecipe $$ \"\"\r\ndepend \"t\" a:b\r\n\"recipe-del\"  \"$(a b)\"  1\r\n\"depend\" $$ $$\r\nundepend \"c\" ${g(}", Ok (on_line 1 (Apply (ChangePrereqs None (codes "$$") (RemovePrereq (codes "$x")))) ∷ on_line 2 (Apply (AddRecipe None (codes "$$") Last (codes "e f \\ g"))) ∷ on_line 3 (Apply (AddLine (BeforeVar None (codes "CC")) (NewRule (codes "c") Double []))) ∷ on_line 4 End ∷ on_line 5 (Apply (AddRecipe None (codes "$$") Last [])) ∷ on_line 6 (Apply (ChangePrereqs None (codes "t") (AddPrereq false (codes "a:b")))) ∷ on_line 7 (Apply (RemoveLines (OfRecipe None (codes "$(a b)") (ByNumber 1)))) ∷ on_line 8 (Apply (ChangePrereqs None (codes "$$") (AddPrereq false (codes "$$")))) ∷ on_line 9 (Apply (ChangePrereqs None (codes "c") (RemovePrereq (codes "${g(}")))) ∷ [])) ∷  -- random-236
    (codes "begin\nundo\n\"unset\" >Y\n", Ok (on_line 1 Begin ∷ on_line 2 Undo ∷ on_line 3 (Apply (RemoveLines (OfAssign None (codes ">Y")))) ∷ [])) ∷  -- random-238
    (codes "begin\nredo\n", Ok (on_line 1 Begin ∷ on_line 2 Redo ∷ [])) ∷  -- random-239
    (codes "rule bottom \"t ${g(}\" : \"$(q:;=|) .PHONY\"\n\"rename\" $(s\\) $\\\nredo\nnth  2  depend-order  ${g(}  -include2\nrename t $(s\\)\nredo\ncancel", Ok (on_line 1 (Apply (AddLine Bottom (NewRule (codes "t ${g(}") Single (codes "$(q:;=|) .PHONY")))) ∷ on_line 2 (Apply (RenameTarget (codes "$(s\\)") (codes "$\\"))) ∷ on_line 3 Redo ∷ on_line 4 (Apply (ChangePrereqs (Some 2) (codes "${g(}") (AddPrereq true (codes "-include2")))) ∷ on_line 5 (Apply (RenameTarget (codes "t") (codes "$(s\\)"))) ∷ on_line 6 Redo ∷ on_line 7 Cancel ∷ [])) ∷  -- random-240
    (codes "begin\r\nredo\r\n\"rule\" bottom -include2 : ${c}\r\nrule bottom a :: \"\"\r\ndepend-order\ta\ta\r\nrule \"before-var\" define b :: .PHONY\r\ndepend-order  a  a", Ok (on_line 1 Begin ∷ on_line 2 Redo ∷ on_line 3 (Apply (AddLine Bottom (NewRule (codes "-include2") Single (codes "${c}")))) ∷ on_line 4 (Apply (AddLine Bottom (NewRule (codes "a") Double []))) ∷ on_line 5 (Apply (ChangePrereqs None (codes "a") (AddPrereq true (codes "a")))) ∷ on_line 6 (Apply (AddLine (BeforeVar None (codes "define")) (NewRule (codes "b") Double (codes ".PHONY")))) ∷ on_line 7 (Apply (ChangePrereqs None (codes "a") (AddPrereq true (codes "a")))) ∷ [])) ∷  -- random-241
    (codes "nth \"1\" set .RECIPEPREFIX a&b\nrule\tbefore-var\t.RECIPEPREFIX\t\"\"\t\":\"\t\"${g(} b\"\nnth\t2\t\"recipe-del\"\ta\t4294967295\nundepend \"a\" %.c\nrecipe\ta\t>\n", Ok (on_line 1 (Apply (ChangeValue (One (Some 1)) (codes ".RECIPEPREFIX") (edits.Set (codes "a&b")))) ∷ on_line 2 (Apply (AddLine (BeforeVar None (codes ".RECIPEPREFIX")) (NewRule [] Single (codes "${g(} b")))) ∷ on_line 3 (Apply (RemoveLines (OfRecipe (Some 2) (codes "a") (ByNumber 4294967295)))) ∷ on_line 4 (Apply (ChangePrereqs None (codes "a") (RemovePrereq (codes "%.c")))) ∷ on_line 5 (Apply (AddRecipe None (codes "a") Last (codes ">"))) ∷ [])) ∷  -- random-242
    (codes "\"depend\"\tt\t${c}\n\"set\" tZ :\nundo\nbegin\nbegin\nundo\n\"set\" >>q \"\\\\# $(s\\\\)\"\n\"recipe-del\" x.o 2", Ok (on_line 1 (Apply (ChangePrereqs None (codes "t") (AddPrereq false (codes "${c}")))) ∷ on_line 2 (Apply (ChangeValue (One None) (codes "tZ") (edits.Set (codes ":")))) ∷ on_line 3 Undo ∷ on_line 4 Begin ∷ on_line 5 Begin ∷ on_line 6 Undo ∷ on_line 7 (Apply (ChangeValue (One None) (codes ">>q") (edits.Set (codes "\\# $(s\\)")))) ∷ on_line 8 (Apply (RemoveLines (OfRecipe None (codes "x.o") (ByNumber 2)))) ∷ [])) ∷  -- random-243
    (codes "nth 0 append CC \"%.c2 3;\"\nset CC %.o\nappend \"X$ \" \"\"\nundo\nredo\n\"append\" \"X$ \" \"\"\nnth \"4294967295\" set \"X$ \" $x\n\"rule\"\tafter-var\tifdef\t\"\"\t::\t\"\"\n\"rule\" \"before-var\" CC \"foo\" :: \"$(a b)\"\nset \"X$ \" \\$x\nrecipe-del foo 2\nset CC \"$x 2 3\"\n", Ok (on_line 1 (Apply (ChangeValue (One (Some 0)) (codes "CC") (edits.Append (codes "%.c2 3;")))) ∷ on_line 2 (Apply (ChangeValue (One None) (codes "CC") (edits.Set (codes "%.o")))) ∷ on_line 3 (Apply (ChangeValue (One None) (codes "X$ ") (edits.Append []))) ∷ on_line 4 Undo ∷ on_line 5 Redo ∷ on_line 6 (Apply (ChangeValue (One None) (codes "X$ ") (edits.Append []))) ∷ on_line 7 (Apply (ChangeValue (One (Some 4294967295)) (codes "X$ ") (edits.Set (codes "$x")))) ∷ on_line 8 (Apply (AddLine (AfterVar None (codes "ifdef")) (NewRule [] Double []))) ∷ on_line 9 (Apply (AddLine (BeforeVar None (codes "CC")) (NewRule (codes "foo") Double (codes "$(a b)")))) ∷ on_line 10 (Apply (ChangeValue (One None) (codes "X$ ") (edits.Set (codes "\\$x")))) ∷ on_line 11 (Apply (RemoveLines (OfRecipe None (codes "foo") (ByNumber 2)))) ∷ on_line 12 (Apply (ChangeValue (One None) (codes "CC") (edits.Set (codes "$x 2 3")))) ∷ [])) ∷  -- random-244
    (codes "rule before-var t1 %.c :: \"c %.c\"\r\nundepend %.c t\r\nassign\tbottom\tt1\t+=\t\\#\r\nnth  4294967295  unset  t1\r\nrecipe-set %.c \"1\" \"cÿ\"\r\nredo\r\n", Ok (on_line 1 (Apply (AddLine (BeforeVar None (codes "t1")) (NewRule (codes "%.c") Double (codes "c %.c")))) ∷ on_line 2 (Apply (ChangePrereqs None (codes "%.c") (RemovePrereq (codes "t")))) ∷ on_line 3 (Apply (AddLine Bottom (NewAssign (codes "t1") Append (codes "\\#")))) ∷ on_line 4 (Apply (RemoveLines (OfAssign (Some 4294967295) (codes "t1")))) ∷ on_line 5 (Apply (SetRecipe None (codes "%.c") (ByNumber 1) (codes "cÿ"))) ∷ on_line 6 Redo ∷ [])) ∷  -- random-245
    (codes "undo\nundo\n", Ok (on_line 1 Undo ∷ on_line 2 Undo ∷ [])) ∷  -- random-246
    (codes "undepend  x.o  \"${c}\"\n", Ok (on_line 1 (Apply (ChangePrereqs None (codes "x.o") (RemovePrereq (codes "${c}")))) ∷ [])) ∷  -- random-247
    (codes "begin\r\nend\r\n\"append\" \"a.b\" \"\"\r\nbegin\r\nappend .RECIPEPREFIX \"$(q:;=|)c $(p #)\"\r\nredo\r\nunset t1\r\nset \".RECIPEPREFIX\" $$\r\n\"append\" .RECIPEPREFIX \"$$ $(q:;=|)\"\r\nredo", Ok (on_line 1 Begin ∷ on_line 2 End ∷ on_line 3 (Apply (ChangeValue (One None) (codes "a.b") (edits.Append []))) ∷ on_line 4 Begin ∷ on_line 5 (Apply (ChangeValue (One None) (codes ".RECIPEPREFIX") (edits.Append (codes "$(q:;=|)c $(p #)")))) ∷ on_line 6 Redo ∷ on_line 7 (Apply (RemoveLines (OfAssign None (codes "t1")))) ∷ on_line 8 (Apply (ChangeValue (One None) (codes ".RECIPEPREFIX") (edits.Set (codes "$$")))) ∷ on_line 9 (Apply (ChangeValue (One None) (codes ".RECIPEPREFIX") (edits.Append (codes "$$ $(q:;=|)")))) ∷ on_line 10 Redo ∷ [])) ∷  -- random-248
    (codes "redo\nrule bottom \"\" :: \"${g(} %.c\"\nassign bottom t1 != a&b\n", Ok (on_line 1 Redo ∷ on_line 2 (Apply (AddLine Bottom (NewRule [] Double (codes "${g(} %.c")))) ∷ on_line 3 (Apply (AddLine Bottom (NewAssign (codes "t1") Shell (codes "a&b")))) ∷ [])) ∷  -- random-249
    (codes "\"unset\" \"endef\"\nend\nundo", Ok (on_line 1 (Apply (RemoveLines (OfAssign None (codes "endef")))) ∷ on_line 2 End ∷ on_line 3 Undo ∷ [])) ∷  -- random-250
    (codes "rule bottom $x :: -include2\nnth 2 rule before-rule a b :: \"%.o b\"\nbegin\n nth 2 rule before-rule y a:b : $x\nnth\t\"1\"\tundepend\ta\t\"$(p #)\"\nundepend $(q:;=|) a\nbegin\nnth 4294967295 recipe-set \"b\" 2 \" a\"\nundo\n", Ok (on_line 1 (Apply (AddLine Bottom (NewRule (codes "$x") Double (codes "-include2")))) ∷ on_line 2 (Apply (AddLine (BeforeRule (Some 2) (codes "a")) (NewRule (codes "b") Double (codes "%.o b")))) ∷ on_line 3 Begin ∷ on_line 4 (Apply (AddLine (BeforeRule (Some 2) (codes "y")) (NewRule (codes "a:b") Single (codes "$x")))) ∷ on_line 5 (Apply (ChangePrereqs (Some 1) (codes "a") (RemovePrereq (codes "$(p #)")))) ∷ on_line 6 (Apply (ChangePrereqs None (codes "$(q:;=|)") (RemovePrereq (codes "a")))) ∷ on_line 7 Begin ∷ on_line 8 (Apply (SetRecipe (Some 4294967295) (codes "b") (ByNumber 2) (codes " a"))) ∷ on_line 9 Undo ∷ [])) ∷  -- random-251
    (codes "begin\nundo\n\"unset\" override\n", Ok (on_line 1 Begin ∷ on_line 2 Undo ∷ on_line 3 (Apply (RemoveLines (OfAssign None (codes "override")))) ∷ [])) ∷  -- random-252
    (codes " nth\t1\tset\t\"CC\"\t\"\"\n", Ok (on_line 1 (Apply (ChangeValue (One (Some 1)) (codes "CC") (edits.Set []))) ∷ [])) ∷  -- random-253
    (codes "begin\r\n\"assign\" bottom -x_9 \"!=\" \"$(p #)\"\r\nrule bottom \"${c} a:b\" \":\" \"b\"\r\nnth 000 \"set\" -x_9 \\$x\r\nredo\r\n set  -x_9  \"= |\"\r\nunset\t-x_9\r\nrecipe\t.PHONY\tcÿ\r\n rule bottom \"\" : t\r\nrule  bottom  ${g(}  :  ${g(}\r\nundepend  ${g(}  ${g(}\r\nrecipe-del \"else\" \"001\"", Ok (on_line 1 Begin ∷ on_line 2 (Apply (AddLine Bottom (NewAssign (codes "-x_9") Shell (codes "$(p #)")))) ∷ on_line 3 (Apply (AddLine Bottom (NewRule (codes "${c} a:b") Single (codes "b")))) ∷ on_line 4 (Apply (ChangeValue (One (Some 0)) (codes "-x_9") (edits.Set (codes "\\$x")))) ∷ on_line 5 Redo ∷ on_line 6 (Apply (ChangeValue (One None) (codes "-x_9") (edits.Set (codes "= |")))) ∷ on_line 7 (Apply (RemoveLines (OfAssign None (codes "-x_9")))) ∷ on_line 8 (Apply (AddRecipe None (codes ".PHONY") Last (codes "cÿ"))) ∷ on_line 9 (Apply (AddLine Bottom (NewRule [] Single (codes "t")))) ∷ on_line 10 (Apply (AddLine Bottom (NewRule (codes "${g(}") Single (codes "${g(}")))) ∷ on_line 11 (Apply (ChangePrereqs None (codes "${g(}") (RemovePrereq (codes "${g(}")))) ∷ on_line 12 (Apply (RemoveLines (OfRecipe None (codes "else") (ByNumber 1)))) ∷ [])) ∷  -- random-254
    (codes "rule bottom \"\" : ${g(}\r\nrule after-var endef \"$(p #)\" :: t\r\n", Ok (on_line 1 (Apply (AddLine Bottom (NewRule [] Single (codes "${g(}")))) ∷ on_line 2 (Apply (AddLine (AfterVar None (codes "endef")) (NewRule (codes "$(p #)") Double (codes "t")))) ∷ [])) ∷  -- random-257
    (codes "set a.b a\\:b\r\nundo\r\n\"nth\"\t002\t\"set\"\t-x_9\t\"\"\r\nundo\r\nnth 0 set endef $x\r\nbegin\r\nrule \"bottom\" \"${g(} else\" \"::\" \"a&b .PHONY\"\r\nnth 0 \"rule\" before-var \"endef\" a&b : \"%.o $(p #)\"", Ok (on_line 1 (Apply (ChangeValue (One None) (codes "a.b") (edits.Set (codes "a\\:b")))) ∷ on_line 2 Undo ∷ on_line 3 (Apply (ChangeValue (One (Some 2)) (codes "-x_9") (edits.Set []))) ∷ on_line 4 Undo ∷ on_line 5 (Apply (ChangeValue (One (Some 0)) (codes "endef") (edits.Set (codes "$x")))) ∷ on_line 6 Begin ∷ on_line 7 (Apply (AddLine Bottom (NewRule (codes "${g(} else") Double (codes "a&b .PHONY")))) ∷ on_line 8 (Apply (AddLine (BeforeVar (Some 0) (codes "endef")) (NewRule (codes "a&b") Single (codes "%.o $(p #)")))) ∷ [])) ∷  -- random-258
    (codes "rename $x %.o\nrecipe \"a\" \"\tb\"\nrename  $x  .PHONY\nrename a \"$|\"\nrecipe-set $| 2 \"\"\nrule before-rule \"$(f {)\" \"$(s\\\\) %.o\" :: \"\"\n", Ok (on_line 1 (Apply (RenameTarget (codes "$x") (codes "%.o"))) ∷ on_line 2 (Apply (AddRecipe None (codes "a") Last (codes "\tb"))) ∷ on_line 3 (Apply (RenameTarget (codes "$x") (codes ".PHONY"))) ∷ on_line 4 (Apply (RenameTarget (codes "a") (codes "$|"))) ∷ on_line 5 (Apply (SetRecipe None (codes "$|") (ByNumber 2) [])) ∷ on_line 6 (Apply (AddLine (BeforeRule None (codes "$(f {)")) (NewRule (codes "$(s\\) %.o") Double []))) ∷ [])) ∷  -- random-259
    (codes "end\r\nrecipe-set  \"$(p #)\"  2  \"e f \\\\ g\"\r\nundo\r\nredo\r\ndepend-order $x b\r\n\"recipe\" \"$(p #)\" t\r\nrename \"$(p #)\" -include2\r\nredo\r\nend\r\nredo\r\n\"nth\" 4294967295 recipe-del -include2 4294967295\r\n", Ok (on_line 1 End ∷ on_line 2 (Apply (SetRecipe None (codes "$(p #)") (ByNumber 2) (codes "e f \\ g"))) ∷ on_line 3 Undo ∷ on_line 4 Redo ∷ on_line 5 (Apply (ChangePrereqs None (codes "$x") (AddPrereq true (codes "b")))) ∷ on_line 6 (Apply (AddRecipe None (codes "$(p #)") Last (codes "t"))) ∷ on_line 7 (Apply (RenameTarget (codes "$(p #)") (codes "-include2"))) ∷ on_line 8 Redo ∷ on_line 9 End ∷ on_line 10 Redo ∷ on_line 11 (Apply (RemoveLines (OfRecipe (Some 4294967295) (codes "-include2") (ByNumber 4294967295)))) ∷ [])) ∷  -- random-260
    (codes "nth 001 assign after-var \"t1\" -x_9 := \"\"\r\nnth\t\"2\"\trule\tafter-var\tdefine\t\"\"\t::\t&\r\nset \"-x_9\" \"1\"\r\n\"nth\" 1 unset t1", Ok (on_line 1 (Apply (AddLine (AfterVar (Some 1) (codes "t1")) (NewAssign (codes "-x_9") Simple []))) ∷ on_line 2 (Apply (AddLine (AfterVar (Some 2) (codes "define")) (NewRule [] Double (codes "&")))) ∷ on_line 3 (Apply (ChangeValue (One None) (codes "-x_9") (edits.Set (codes "1")))) ∷ on_line 4 (Apply (RemoveLines (OfAssign (Some 1) (codes "t1")))) ∷ [])) ∷  -- random-261
    (codes "\"recipe\"\ta\tx\n\"undepend\" a %.o\nunrule  a\nrule bottom \"a\" :: &\nend\nnth 4294967295 recipe-del \"a\" 0\nassign \"before-rule\" a A := \"$(f {)\"\n\"rule\" bottom \"$(p #)\" :: \"\"\n", Ok (on_line 1 (Apply (AddRecipe None (codes "a") Last (codes "x"))) ∷ on_line 2 (Apply (ChangePrereqs None (codes "a") (RemovePrereq (codes "%.o")))) ∷ on_line 3 (Apply (RemoveLines (OfRule None (codes "a")))) ∷ on_line 4 (Apply (AddLine Bottom (NewRule (codes "a") Double (codes "&")))) ∷ on_line 5 End ∷ on_line 6 (Apply (RemoveLines (OfRecipe (Some 4294967295) (codes "a") (ByNumber 0)))) ∷ on_line 7 (Apply (AddLine (BeforeRule None (codes "a")) (NewAssign (codes "A") Simple (codes "$(f {)")))) ∷ on_line 8 (Apply (AddLine Bottom (NewRule (codes "$(p #)") Double []))) ∷ [])) ∷  -- random-262
    (codes "\"nth\" 0 unset \"t1\"\n\"rename\" ${g(} %.c\nundo\n\"rule\" bottom t :: \"$(q:;=|) foo\"\n\"append\" ifdef $#\nnth 1 recipe \"t\" x\nrecipe \"t\" \"e f \\\\ g\"\nrecipe-del t 1\nbegin\nundo\n depend t \"c\"\nunset t1\n", Ok (on_line 1 (Apply (RemoveLines (OfAssign (Some 0) (codes "t1")))) ∷ on_line 2 (Apply (RenameTarget (codes "${g(}") (codes "%.c"))) ∷ on_line 3 Undo ∷ on_line 4 (Apply (AddLine Bottom (NewRule (codes "t") Double (codes "$(q:;=|) foo")))) ∷ on_line 5 (Apply (ChangeValue (One None) (codes "ifdef") (edits.Append (codes "$#")))) ∷ on_line 6 (Apply (AddRecipe (Some 1) (codes "t") Last (codes "x"))) ∷ on_line 7 (Apply (AddRecipe None (codes "t") Last (codes "e f \\ g"))) ∷ on_line 8 (Apply (RemoveLines (OfRecipe None (codes "t") (ByNumber 1)))) ∷ on_line 9 Begin ∷ on_line 10 Undo ∷ on_line 11 (Apply (ChangePrereqs None (codes "t") (AddPrereq false (codes "c")))) ∷ on_line 12 (Apply (RemoveLines (OfAssign None (codes "t1")))) ∷ [])) ∷  -- random-263
    (codes "set  override  \"foo %.c\"\r\nend\r\nunrule x.o\r\n\"depend\" y .PHONY\r\nend\r\n", Ok (on_line 1 (Apply (ChangeValue (One None) (codes "override") (edits.Set (codes "foo %.c")))) ∷ on_line 2 End ∷ on_line 3 (Apply (RemoveLines (OfRule None (codes "x.o")))) ∷ on_line 4 (Apply (ChangePrereqs None (codes "y") (AddPrereq false (codes ".PHONY")))) ∷ on_line 5 End ∷ [])) ∷  -- random-264
    (codes "rule bottom a &: b\nredo\nnth  001  assign  before-rule  $$  ifdef  :::=  \"c\"\nredo\nend\nundo\n\"nth\"  1  \"depend\"  $$  \"$(p #)\"\nbegin\n", Err 1) ∷  -- random-265
    (codes "nth \"2\" \"append\" Y \"\"\nend\n\"unset\" Y\nredo\n\"nth\" 0 depend ${c} \"$\"\nredo\nend", Ok (on_line 1 (Apply (ChangeValue (One (Some 2)) (codes "Y") (edits.Append []))) ∷ on_line 2 End ∷ on_line 3 (Apply (RemoveLines (OfAssign None (codes "Y")))) ∷ on_line 4 Redo ∷ on_line 5 (Apply (ChangePrereqs (Some 0) (codes "${c}") (AddPrereq false (codes "$")))) ∷ on_line 6 Redo ∷ on_line 7 End ∷ [])) ∷  -- random-266
    (codes "undo\nnth 001 unset .RECIPEPREFIX\nunset\t\"A\"\nnth 002 append \"A\" \"\"\nnth \"2\" unset .RECIPEPREFIX\nnth \"1\" set .RECIPEPREFIX b\n", Ok (on_line 1 Undo ∷ on_line 2 (Apply (RemoveLines (OfAssign (Some 1) (codes ".RECIPEPREFIX")))) ∷ on_line 3 (Apply (RemoveLines (OfAssign None (codes "A")))) ∷ on_line 4 (Apply (ChangeValue (One (Some 2)) (codes "A") (edits.Append []))) ∷ on_line 5 (Apply (RemoveLines (OfAssign (Some 2) (codes ".RECIPEPREFIX")))) ∷ on_line 6 (Apply (ChangeValue (One (Some 1)) (codes ".RECIPEPREFIX") (edits.Set (codes "b")))) ∷ [])) ∷  -- random-267
    (codes "cancel\nundepend  a&b  -include2\nset\tY\tc\nrename ${c} \"c\"\nunset \"Y\"\n \"nth\" 001 \"recipe-set\" t 2 \"\"\nrename \"a&b\" a\ndepend t ${g(}\nrename t \"$$\"\n", Ok (on_line 1 Cancel ∷ on_line 2 (Apply (ChangePrereqs None (codes "a&b") (RemovePrereq (codes "-include2")))) ∷ on_line 3 (Apply (ChangeValue (One None) (codes "Y") (edits.Set (codes "c")))) ∷ on_line 4 (Apply (RenameTarget (codes "${c}") (codes "c"))) ∷ on_line 5 (Apply (RemoveLines (OfAssign None (codes "Y")))) ∷ on_line 6 (Apply (SetRecipe (Some 1) (codes "t") (ByNumber 2) [])) ∷ on_line 7 (Apply (RenameTarget (codes "a&b") (codes "a"))) ∷ on_line 8 (Apply (ChangePrereqs None (codes "t") (AddPrereq false (codes "${g(}")))) ∷ on_line 9 (Apply (RenameTarget (codes "t") (codes "$$"))) ∷ [])) ∷  -- random-268
    (codes "recipe ${g(} cÿ\n set \"X$ \" \"\"\n", Ok (on_line 1 (Apply (AddRecipe None (codes "${g(}") Last (codes "cÿ"))) ∷ on_line 2 (Apply (ChangeValue (One None) (codes "X$ ") (edits.Set []))) ∷ [])) ∷  -- random-269
    (codes "\"rename\" $(s\\) ${c}\n\"nth\"\t2\tunset\t\"X$ \"\nundo\nrule bottom $x \":\" \"\"\nassign bottom ifdef ?= \"\"\nappend ifdef :\nset ifdef \"\"\nunset ifdef\n depend $x \"a\"\nnth 001 recipe-del .PHONY 2\n\"depend\" \"$x\" %.c\nrule before-var \"endef\" .PHONY : \"t foo\"", Ok (on_line 1 (Apply (RenameTarget (codes "$(s\\)") (codes "${c}"))) ∷ on_line 2 (Apply (RemoveLines (OfAssign (Some 2) (codes "X$ ")))) ∷ on_line 3 Undo ∷ on_line 4 (Apply (AddLine Bottom (NewRule (codes "$x") Single []))) ∷ on_line 5 (Apply (AddLine Bottom (NewAssign (codes "ifdef") Conditional []))) ∷ on_line 6 (Apply (ChangeValue (One None) (codes "ifdef") (edits.Append (codes ":")))) ∷ on_line 7 (Apply (ChangeValue (One None) (codes "ifdef") (edits.Set []))) ∷ on_line 8 (Apply (RemoveLines (OfAssign None (codes "ifdef")))) ∷ on_line 9 (Apply (ChangePrereqs None (codes "$x") (AddPrereq false (codes "a")))) ∷ on_line 10 (Apply (RemoveLines (OfRecipe (Some 1) (codes ".PHONY") (ByNumber 2)))) ∷ on_line 11 (Apply (ChangePrereqs None (codes "$x") (AddPrereq false (codes "%.c")))) ∷ on_line 12 (Apply (AddLine (BeforeVar None (codes "endef")) (NewRule (codes ".PHONY") Single (codes "t foo")))) ∷ [])) ∷  -- random-270
    (codes "redo\nrule after-var >q \"${c} $(a b)\" : \"\"\nassign  \"bottom\"  define  ::=  \"\\\\# 2 3\"\nappend  >q  b\n\"unset\" \\#x\nassign after-var define >q += \"\"\nnth 1 \"set\" A b\nappend\t\"define\"\t\"a\\\\:b 1\"\nappend >q \"$(a b) a\\\\:b\"\n", Ok (on_line 1 Redo ∷ on_line 2 (Apply (AddLine (AfterVar None (codes ">q")) (NewRule (codes "${c} $(a b)") Single []))) ∷ on_line 3 (Apply (AddLine Bottom (NewAssign (codes "define") PosixSimple (codes "\\# 2 3")))) ∷ on_line 4 (Apply (ChangeValue (One None) (codes ">q") (edits.Append (codes "b")))) ∷ on_line 5 (Apply (RemoveLines (OfAssign None (codes "\\#x")))) ∷ on_line 6 (Apply (AddLine (AfterVar None (codes "define")) (NewAssign (codes ">q") Append []))) ∷ on_line 7 (Apply (ChangeValue (One (Some 1)) (codes "A") (edits.Set (codes "b")))) ∷ on_line 8 (Apply (ChangeValue (One None) (codes "define") (edits.Append (codes "a\\:b 1")))) ∷ on_line 9 (Apply (ChangeValue (One None) (codes ">q") (edits.Append (codes "$(a b) a\\:b")))) ∷ [])) ∷  -- random-271
    (codes "rename \"$x\" $(s\\)\r\nrule bottom \"${c} $(p #)\" : \"$(a b) c\"\r\n recipe foo t\r\nnth  000  \"assign\"  \"before-rule\"  \"foo\"  t  :=  \"b ${g(}\"\r\n\"assign\" bottom \"override\" :::= \"\"\r\n", Ok (on_line 1 (Apply (RenameTarget (codes "$x") (codes "$(s\\)"))) ∷ on_line 2 (Apply (AddLine Bottom (NewRule (codes "${c} $(p #)") Single (codes "$(a b) c")))) ∷ on_line 3 (Apply (AddRecipe None (codes "foo") Last (codes "t"))) ∷ on_line 4 (Apply (AddLine (BeforeRule (Some 0) (codes "foo")) (NewAssign (codes "t") Simple (codes "b ${g(}")))) ∷ on_line 5 (Apply (AddLine Bottom (NewAssign (codes "override") Immediate []))) ∷ [])) ∷  -- random-272
    (codes "redo\nbegin\nnth 2 assign \"before-var\" \".RECIPEPREFIX\" Y ?= \"\"\nnth 1 \"rule\" after-var .RECIPEPREFIX \"$(p #) $(p #)\" \":\" \"$(a b) |\"\nset  A  \"foo .PHONY a\"\n", Ok (on_line 1 Redo ∷ on_line 2 Begin ∷ on_line 3 (Apply (AddLine (BeforeVar (Some 2) (codes ".RECIPEPREFIX")) (NewAssign (codes "Y") Conditional []))) ∷ on_line 4 (Apply (AddLine (AfterVar (Some 1) (codes ".RECIPEPREFIX")) (NewRule (codes "$(p #) $(p #)") Single (codes "$(a b) |")))) ∷ on_line 5 (Apply (ChangeValue (One None) (codes "A") (edits.Set (codes "foo .PHONY a")))) ∷ [])) ∷  -- random-273
    (codes "append CC \"\"\nnth 1 recipe-set %.o \"0\" t\n set CC ${c}\n set CC \"a\\\\:b a&b\"\n unset CC\n\"undepend\" %.o .PHONY\nrecipe t \"\tb\"\nrecipe \"%.o\" \"e f \\\\ g\"\nend\n\"assign\"  \"after-var\"  CC  Y  :::=  a&b\n\"nth\"\t2\t\"set\"\tY\t\"\"\nnth  \"0\"  append  t1  \"$(a b)\"", Ok (on_line 1 (Apply (ChangeValue (One None) (codes "CC") (edits.Append []))) ∷ on_line 2 (Apply (SetRecipe (Some 1) (codes "%.o") (ByNumber 0) (codes "t"))) ∷ on_line 3 (Apply (ChangeValue (One None) (codes "CC") (edits.Set (codes "${c}")))) ∷ on_line 4 (Apply (ChangeValue (One None) (codes "CC") (edits.Set (codes "a\\:b a&b")))) ∷ on_line 5 (Apply (RemoveLines (OfAssign None (codes "CC")))) ∷ on_line 6 (Apply (ChangePrereqs None (codes "%.o") (RemovePrereq (codes ".PHONY")))) ∷ on_line 7 (Apply (AddRecipe None (codes "t") Last (codes "\tb"))) ∷ on_line 8 (Apply (AddRecipe None (codes "%.o") Last (codes "e f \\ g"))) ∷ on_line 9 End ∷ on_line 10 (Apply (AddLine (AfterVar None (codes "CC")) (NewAssign (codes "Y") Immediate (codes "a&b")))) ∷ on_line 11 (Apply (ChangeValue (One (Some 2)) (codes "Y") (edits.Set []))) ∷ on_line 12 (Apply (ChangeValue (One (Some 0)) (codes "t1") (edits.Append (codes "$(a b)")))) ∷ [])) ∷  -- random-274
    (codes "rename b %.c\nundo\nredo\n rename \"%.c\" \"%.c\"\nundo\n\"rule\" after-var \"a.b\" \"foo\" :: \"\"\nundepend\tb\t$$\nend\n undepend  b  \"x.o\"\n\"recipe-del\"\tfoo\t\"2\"\n", Ok (on_line 1 (Apply (RenameTarget (codes "b") (codes "%.c"))) ∷ on_line 2 Undo ∷ on_line 3 Redo ∷ on_line 4 (Apply (RenameTarget (codes "%.c") (codes "%.c"))) ∷ on_line 5 Undo ∷ on_line 6 (Apply (AddLine (AfterVar None (codes "a.b")) (NewRule (codes "foo") Double []))) ∷ on_line 7 (Apply (ChangePrereqs None (codes "b") (RemovePrereq (codes "$$")))) ∷ on_line 8 End ∷ on_line 9 (Apply (ChangePrereqs None (codes "b") (RemovePrereq (codes "x.o")))) ∷ on_line 10 (Apply (RemoveLines (OfRecipe None (codes "foo") (ByNumber 2)))) ∷ [])) ∷  -- random-275
    []

answers_5 : map (λ row. read_script row.0) rows_5 ≡ map (λ row. row.1) rows_5
unfolding line_len lines_from
answers_5 = refl

abbrev rows_6 : List (List ℕ × Result (List Step) ℕ)
rows_6 =
    (codes "\"nth\" 1 assign after-var define -x_9 :::= \"\\\\$x x  y :\"\nunset -x_9\nundo\n set -x_9 \"\"\nundo\n", Ok (on_line 1 (Apply (AddLine (AfterVar (Some 1) (codes "define")) (NewAssign (codes "-x_9") Immediate (codes "\\$x x  y :")))) ∷ on_line 2 (Apply (RemoveLines (OfAssign None (codes "-x_9")))) ∷ on_line 3 Undo ∷ on_line 4 (Apply (ChangeValue (One None) (codes "-x_9") (edits.Set []))) ∷ on_line 5 Undo ∷ [])) ∷  -- random-276
    (codes "nth 1 recipe-set \">t\" \"0\" x\nnth 002 depend >t \"$\"\n unset .RECIPEPREFIX\nnth\t0\tunset\t\"endef\"\nunset\t.RECIPEPREFIX\n", Ok (on_line 1 (Apply (SetRecipe (Some 1) (codes ">t") (ByNumber 0) (codes "x"))) ∷ on_line 2 (Apply (ChangePrereqs (Some 2) (codes ">t") (AddPrereq false (codes "$")))) ∷ on_line 3 (Apply (RemoveLines (OfAssign None (codes ".RECIPEPREFIX")))) ∷ on_line 4 (Apply (RemoveLines (OfAssign (Some 0) (codes "endef")))) ∷ on_line 5 (Apply (RemoveLines (OfAssign None (codes ".RECIPEPREFIX")))) ∷ [])) ∷  -- random-277
    (codes " unset  t1\n", Ok (on_line 1 (Apply (RemoveLines (OfAssign None (codes "t1")))) ∷ [])) ∷  -- random-278
    (codes "rule after-var a.b b : \"\"", Ok (on_line 1 (Apply (AddLine (AfterVar None (codes "a.b")) (NewRule (codes "b") Single []))) ∷ [])) ∷  -- random-280
    (codes "\"rule\" before-var \"a\" \"\" : \"\"\r\nbegin\r\nappend a \"\"\r\nbegin\r\n nth  4294967295  \"append\"  \"X\"  \\#\r\n", Ok (on_line 1 (Apply (AddLine (BeforeVar None (codes "a")) (NewRule [] Single []))) ∷ on_line 2 Begin ∷ on_line 3 (Apply (ChangeValue (One None) (codes "a") (edits.Append []))) ∷ on_line 4 Begin ∷ on_line 5 (Apply (ChangeValue (One (Some 4294967295)) (codes "X") (edits.Append (codes "\\#")))) ∷ [])) ∷  -- random-281
    (codes "rule bottom \"\" : \"-include2 $(a b)\"\r\nrule\tbottom\t-include2\t:\t%.o\r\nundo\r\nrule \"bottom\" \"\" :: a:b\r\n\"rule\" \"bottom\" -include2 \"::\" \"a ${c}\"\r\nrecipe-del \"${g(}\" 2\r\n\"rule\" bottom $(s\\) \":\" \"-include2 t\"\r\nredo\r\nrule \"bottom\" \"$(f {) c\" \"::\" \"$(f {) ${c}\"\r\nassign bottom define := \"; $(q:;=|)\"\r\n\"rule\"  bottom  \"$(u a:b\"  ::  \"\"\r\n", Ok (on_line 1 (Apply (AddLine Bottom (NewRule [] Single (codes "-include2 $(a b)")))) ∷ on_line 2 (Apply (AddLine Bottom (NewRule (codes "-include2") Single (codes "%.o")))) ∷ on_line 3 Undo ∷ on_line 4 (Apply (AddLine Bottom (NewRule [] Double (codes "a:b")))) ∷ on_line 5 (Apply (AddLine Bottom (NewRule (codes "-include2") Double (codes "a ${c}")))) ∷ on_line 6 (Apply (RemoveLines (OfRecipe None (codes "${g(}") (ByNumber 2)))) ∷ on_line 7 (Apply (AddLine Bottom (NewRule (codes "$(s\\)") Single (codes "-include2 t")))) ∷ on_line 8 Redo ∷ on_line 9 (Apply (AddLine Bottom (NewRule (codes "$(f {) c") Double (codes "$(f {) ${c}")))) ∷ on_line 10 (Apply (AddLine Bottom (NewAssign (codes "define") Simple (codes "; $(q:;=|)")))) ∷ on_line 11 (Apply (AddLine Bottom (NewRule (codes "$(u a:b") Double []))) ∷ [])) ∷  -- random-282
    (codes "redo\r\nnth 001 unset .RECIPEPREFIX", Ok (on_line 1 Redo ∷ on_line 2 (Apply (RemoveLines (OfAssign (Some 1) (codes ".RECIPEPREFIX")))) ∷ [])) ∷  -- random-284
    (codes "rule bottom \"a&b .PHONY\" : \"t $(q:;=|)\"\r\nnth 1 rule after-var >q \".PHONY c\" \":\" foo\r\nbegin\r\nunrule\t.PHONY\r\nbegin\r\nrename %.o foo", Ok (on_line 1 (Apply (AddLine Bottom (NewRule (codes "a&b .PHONY") Single (codes "t $(q:;=|)")))) ∷ on_line 2 (Apply (AddLine (AfterVar (Some 1) (codes ">q")) (NewRule (codes ".PHONY c") Single (codes "foo")))) ∷ on_line 3 Begin ∷ on_line 4 (Apply (RemoveLines (OfRule None (codes ".PHONY")))) ∷ on_line 5 Begin ∷ on_line 6 (Apply (RenameTarget (codes "%.o") (codes "foo"))) ∷ [])) ∷  -- random-285
    (codes "nth  2  \"append\"  >q  \"\"\r\n\"assign\" before-var .RECIPEPREFIX override ?= $(q:;=|)\r\nrule \"before-var\" \".RECIPEPREFIX\" %.c : \".PHONY a\"\r\nrule\tbottom\t\"\"\t\"::\"\t\"\"\r\n", Ok (on_line 1 (Apply (ChangeValue (One (Some 2)) (codes ">q") (edits.Append []))) ∷ on_line 2 (Apply (AddLine (BeforeVar None (codes ".RECIPEPREFIX")) (NewAssign (codes "override") Conditional (codes "$(q:;=|)")))) ∷ on_line 3 (Apply (AddLine (BeforeVar None (codes ".RECIPEPREFIX")) (NewRule (codes "%.c") Single (codes ".PHONY a")))) ∷ on_line 4 (Apply (AddLine Bottom (NewRule [] Double []))) ∷ [])) ∷  -- random-286
    (codes "depend-order a ${g(}\nrename ${g(} \"a&b\"\n assign before-rule a ifdef ?= \"\"\nnth\t1\tappend\t\"t1\"\t:\nredo\nrecipe foo \"y # z\"\nunrule foo\n", Ok (on_line 1 (Apply (ChangePrereqs None (codes "a") (AddPrereq true (codes "${g(}")))) ∷ on_line 2 (Apply (RenameTarget (codes "${g(}") (codes "a&b"))) ∷ on_line 3 (Apply (AddLine (BeforeRule None (codes "a")) (NewAssign (codes "ifdef") Conditional []))) ∷ on_line 4 (Apply (ChangeValue (One (Some 1)) (codes "t1") (edits.Append (codes ":")))) ∷ on_line 5 Redo ∷ on_line 6 (Apply (AddRecipe None (codes "foo") Last (codes "y # z"))) ∷ on_line 7 (Apply (RemoveLines (OfRule None (codes "foo")))) ∷ [])) ∷  -- random-287
    (codes "rule before-var -x_9 \"\" \"::\" \"\"\nnth 0 \"set\" \"-x_9\" $#\nappend -x_9 $(s\\)\n unset -x_9\nrule\tbottom\t\".PHONY\"\t::\t\"\"\nbegin\nassign bottom Y \"+=\" \"\"\n\"undepend\" \"$(s\\\\)\" \"c\"\nrule bottom \"\" \":\" \"\"", Ok (on_line 1 (Apply (AddLine (BeforeVar None (codes "-x_9")) (NewRule [] Double []))) ∷ on_line 2 (Apply (ChangeValue (One (Some 0)) (codes "-x_9") (edits.Set (codes "$#")))) ∷ on_line 3 (Apply (ChangeValue (One None) (codes "-x_9") (edits.Append (codes "$(s\\)")))) ∷ on_line 4 (Apply (RemoveLines (OfAssign None (codes "-x_9")))) ∷ on_line 5 (Apply (AddLine Bottom (NewRule (codes ".PHONY") Double []))) ∷ on_line 6 Begin ∷ on_line 7 (Apply (AddLine Bottom (NewAssign (codes "Y") Append []))) ∷ on_line 8 (Apply (ChangePrereqs None (codes "$(s\\)") (RemovePrereq (codes "c")))) ∷ on_line 9 (Apply (AddLine Bottom (NewRule [] Single []))) ∷ [])) ∷  -- random-288
    (codes "nth\t1\t\"undepend\"\t$$\t%.c\r\n\"rule\"  before-rule  ${c}  \"\"  ::  \"\"\r\nunrule \".PHONY\"\r\n depend-order .PHONY \"a&b\"\r\ndepend-order \"$$\" $(s\\)\r\n\"append\"  .RECIPEPREFIX  \"\"\r\nrecipe  $$  \"\tb\"\r\nredo\r\nend\r\n\"nth\" 4294967295 assign before-var .RECIPEPREFIX define ::= :\r\ndepend .PHONY \"$(p #)\"\r\nundo", Ok (on_line 1 (Apply (ChangePrereqs (Some 1) (codes "$$") (RemovePrereq (codes "%.c")))) ∷ on_line 2 (Apply (AddLine (BeforeRule None (codes "${c}")) (NewRule [] Double []))) ∷ on_line 3 (Apply (RemoveLines (OfRule None (codes ".PHONY")))) ∷ on_line 4 (Apply (ChangePrereqs None (codes ".PHONY") (AddPrereq true (codes "a&b")))) ∷ on_line 5 (Apply (ChangePrereqs None (codes "$$") (AddPrereq true (codes "$(s\\)")))) ∷ on_line 6 (Apply (ChangeValue (One None) (codes ".RECIPEPREFIX") (edits.Append []))) ∷ on_line 7 (Apply (AddRecipe None (codes "$$") Last (codes "\tb"))) ∷ on_line 8 Redo ∷ on_line 9 End ∷ on_line 10 (Apply (AddLine (BeforeVar (Some 4294967295) (codes ".RECIPEPREFIX")) (NewAssign (codes "define") PosixSimple (codes ":")))) ∷ on_line 11 (Apply (ChangePrereqs None (codes ".PHONY") (AddPrereq false (codes "$(p #)")))) ∷ on_line 12 Undo ∷ [])) ∷  -- random-289
    (codes "undo\nunrule  $(q:;=|)\n", Ok (on_line 1 Undo ∷ on_line 2 (Apply (RemoveLines (OfRule None (codes "$(q:;=|)")))) ∷ [])) ∷  -- random-290
    (codes "\"nth\"\t1\tundepend\t${c}\t${c}\n nth 4294967295 \"undepend\" ${c} $x\nrule before-rule $(q:;=|) .PHONY \":\" ${c}\nundepend \".PHONY\" ${c}\nset -x_9 1\n\"nth\" 4294967295 unset \"-x_9\"\nassign\tbottom\tX\t:=\t\\$x\nset \"CC\" \"\"\n\"rename\" ${c} a&b\n set X c", Ok (on_line 1 (Apply (ChangePrereqs (Some 1) (codes "${c}") (RemovePrereq (codes "${c}")))) ∷ on_line 2 (Apply (ChangePrereqs (Some 4294967295) (codes "${c}") (RemovePrereq (codes "$x")))) ∷ on_line 3 (Apply (AddLine (BeforeRule None (codes "$(q:;=|)")) (NewRule (codes ".PHONY") Single (codes "${c}")))) ∷ on_line 4 (Apply (ChangePrereqs None (codes ".PHONY") (RemovePrereq (codes "${c}")))) ∷ on_line 5 (Apply (ChangeValue (One None) (codes "-x_9") (edits.Set (codes "1")))) ∷ on_line 6 (Apply (RemoveLines (OfAssign (Some 4294967295) (codes "-x_9")))) ∷ on_line 7 (Apply (AddLine Bottom (NewAssign (codes "X") Simple (codes "\\$x")))) ∷ on_line 8 (Apply (ChangeValue (One None) (codes "CC") (edits.Set []))) ∷ on_line 9 (Apply (RenameTarget (codes "${c}") (codes "a&b"))) ∷ on_line 10 (Apply (ChangeValue (One None) (codes "X") (edits.Set (codes "c")))) ∷ [])) ∷  -- random-291
    (codes " set \"Y\" \"\"\n nth\t\"002\"\tappend\tY\t\"foo %.c\"\nassign before-var Y -x_9 ?= $#\nnth  \"0\"  recipe-del  \"x.o\"  000\nbegin\n\"set\"\tY\ta\nredo\nassign after-var \"-x_9\" override := \"\"\nrecipe-del \"x.o\" 2\n\"rename\" \"c\" \"$(p #)\"\nnth 4294967295 recipe-del x.o 0\n", Ok (on_line 1 (Apply (ChangeValue (One None) (codes "Y") (edits.Set []))) ∷ on_line 2 (Apply (ChangeValue (One (Some 2)) (codes "Y") (edits.Append (codes "foo %.c")))) ∷ on_line 3 (Apply (AddLine (BeforeVar None (codes "Y")) (NewAssign (codes "-x_9") Conditional (codes "$#")))) ∷ on_line 4 (Apply (RemoveLines (OfRecipe (Some 0) (codes "x.o") (ByNumber 0)))) ∷ on_line 5 Begin ∷ on_line 6 (Apply (ChangeValue (One None) (codes "Y") (edits.Set (codes "a")))) ∷ on_line 7 Redo ∷ on_line 8 (Apply (AddLine (AfterVar None (codes "-x_9")) (NewAssign (codes "override") Simple []))) ∷ on_line 9 (Apply (RemoveLines (OfRecipe None (codes "x.o") (ByNumber 2)))) ∷ on_line 10 (Apply (RenameTarget (codes "c") (codes "$(p #)"))) ∷ on_line 11 (Apply (RemoveLines (OfRecipe (Some 4294967295) (codes "x.o") (ByNumber 0)))) ∷ [])) ∷  -- random-294
    (codes "nth 1 append \"CC\" \"${g(} $$\"\n\"nth\" \"0\" unset CC\n\"recipe-set\" \".t\" \"4294967295\" \"\tb\"\nnth 002 unrule foo\nnth 0 undepend .t .t\ncancel\nbegin\nnth 2 depend-order \"c\" \"$(s\\\\)\"\nnth\t4294967295\trecipe\t\"foo\"\t>\nrecipe-del \"foo\" \"2\"\nredo\nredo\n", Ok (on_line 1 (Apply (ChangeValue (One (Some 1)) (codes "CC") (edits.Append (codes "${g(} $$")))) ∷ on_line 2 (Apply (RemoveLines (OfAssign (Some 0) (codes "CC")))) ∷ on_line 3 (Apply (SetRecipe None (codes ".t") (ByNumber 4294967295) (codes "\tb"))) ∷ on_line 4 (Apply (RemoveLines (OfRule (Some 2) (codes "foo")))) ∷ on_line 5 (Apply (ChangePrereqs (Some 0) (codes ".t") (RemovePrereq (codes ".t")))) ∷ on_line 6 Cancel ∷ on_line 7 Begin ∷ on_line 8 (Apply (ChangePrereqs (Some 2) (codes "c") (AddPrereq true (codes "$(s\\)")))) ∷ on_line 9 (Apply (AddRecipe (Some 4294967295) (codes "foo") Last (codes ">"))) ∷ on_line 10 (Apply (RemoveLines (OfRecipe None (codes "foo") (ByNumber 2)))) ∷ on_line 11 Redo ∷ on_line 12 Redo ∷ [])) ∷  -- random-295
    (codes "depend-order \"$(f {)\" b", Ok (on_line 1 (Apply (ChangePrereqs None (codes "$(f {)") (AddPrereq true (codes "b")))) ∷ [])) ∷  -- random-297
    (codes "\"nth\" 1 append \"o-$(a b)\" ${c}\nundo", Ok (on_line 1 (Apply (ChangeValue (One (Some 1)) (codes "o-$(a b)") (edits.Append (codes "${c}")))) ∷ on_line 2 Undo ∷ [])) ∷  -- random-298
    (codes "undo\r\nredo\r\nrule bottom $$ :: a\r\nappend A \"%.o\"\r\nbegin\r\nredo\r\nundo\r\nnth 0 append .RECPEPREFIX \"2 3\"\r\nrename $x ${g(}\r\n", Ok (on_line 1 Undo ∷ on_line 2 Redo ∷ on_line 3 (Apply (AddLine Bottom (NewRule (codes "$$") Double (codes "a")))) ∷ on_line 4 (Apply (ChangeValue (One None) (codes "A") (edits.Append (codes "%.o")))) ∷ on_line 5 Begin ∷ on_line 6 Redo ∷ on_line 7 Undo ∷ on_line 8 (Apply (ChangeValue (One (Some 0)) (codes ".RECPEPREFIX") (edits.Append (codes "2 3")))) ∷ on_line 9 (Apply (RenameTarget (codes "$x") (codes "${g(}"))) ∷ [])) ∷  -- random-299
    (codes " \"nth\" 4294967295 \"unset\" -x_9\r\nrecipe-del b 1\r\nassign bottom X != \"\"\r\n", Ok (on_line 1 (Apply (RemoveLines (OfAssign (Some 4294967295) (codes "-x_9")))) ∷ on_line 2 (Apply (RemoveLines (OfRecipe None (codes "b") (ByNumber 1)))) ∷ on_line 3 (Apply (AddLine Bottom (NewAssign (codes "X") Shell []))) ∷ [])) ∷  -- random-300
    (codes " rule after-var -x_9 \"\" :: b\r\nassign before-rule \"$(p #)\" A ?= \"\"\r\nredo\r\nbegin\r\nundo\r\n\"recipe\" \"$(p #)\" \"y # z\"\r\nassign\tbottom\tt1\t:::=\t|\r\n", Ok (on_line 1 (Apply (AddLine (AfterVar None (codes "-x_9")) (NewRule [] Double (codes "b")))) ∷ on_line 2 (Apply (AddLine (BeforeRule None (codes "$(p #)")) (NewAssign (codes "A") Conditional []))) ∷ on_line 3 Redo ∷ on_line 4 Begin ∷ on_line 5 Undo ∷ on_line 6 (Apply (AddRecipe None (codes "$(p #)") Last (codes "y # z"))) ∷ on_line 7 (Apply (AddLine Bottom (NewAssign (codes "t1") Immediate (codes "|")))) ∷ [])) ∷  -- random-301
    (codes "nth 000 unset .RECIPEPREFIX\n assign bottom Y \"::=\" \"${c} b\"\nunrule a\nappend\t.RECIPEPREFIX\t$#\nredo\nbegin\nset -x_9 \"$(f {)\"\nrule  \"after-var\"  .RECIPEPREFIX  -include2  ::  \"$(s\\\\) $x\"\nappend  .RECIPEPREFIX  \"\"\nnth\t0\tunset\tY\nnth\t0\tappend\t.RECIPEPREFIX\t.PHONY\nset Y \"\"", Ok (on_line 1 (Apply (RemoveLines (OfAssign (Some 0) (codes ".RECIPEPREFIX")))) ∷ on_line 2 (Apply (AddLine Bottom (NewAssign (codes "Y") PosixSimple (codes "${c} b")))) ∷ on_line 3 (Apply (RemoveLines (OfRule None (codes "a")))) ∷ on_line 4 (Apply (ChangeValue (One None) (codes ".RECIPEPREFIX") (edits.Append (codes "$#")))) ∷ on_line 5 Redo ∷ on_line 6 Begin ∷ on_line 7 (Apply (ChangeValue (One None) (codes "-x_9") (edits.Set (codes "$(f {)")))) ∷ on_line 8 (Apply (AddLine (AfterVar None (codes ".RECIPEPREFIX")) (NewRule (codes "-include2") Double (codes "$(s\\) $x")))) ∷ on_line 9 (Apply (ChangeValue (One None) (codes ".RECIPEPREFIX") (edits.Append []))) ∷ on_line 10 (Apply (RemoveLines (OfAssign (Some 0) (codes "Y")))) ∷ on_line 11 (Apply (ChangeValue (One (Some 0)) (codes ".RECIPEPREFIX") (edits.Append (codes ".PHONY")))) ∷ on_line 12 (Apply (ChangeValue (One None) (codes "Y") (edits.Set []))) ∷ [])) ∷  -- random-302
    (codes "\"recipe-set\" $(s\\) 1 q:=1\nrule bottom \"$(f {)\" :: %.o\nassign \"bottom\" t ?= \"\"\nrename \"%.o\" \"foo\"", Ok (on_line 1 (Apply (SetRecipe None (codes "$(s\\)") (ByNumber 1) (codes "q:=1"))) ∷ on_line 2 (Apply (AddLine Bottom (NewRule (codes "$(f {)") Double (codes "%.o")))) ∷ on_line 3 (Apply (AddLine Bottom (NewAssign (codes "t") Conditional []))) ∷ on_line 4 (Apply (RenameTarget (codes "%.o") (codes "foo"))) ∷ [])) ∷  -- random-303
    (codes "assign bottom define += |\nredo\nrule\tbottom\t\"%.o ${c}\"\t\":\"\t\"\"\nundo\n", Ok (on_line 1 (Apply (AddLine Bottom (NewAssign (codes "define") Append (codes "|")))) ∷ on_line 2 Redo ∷ on_line 3 (Apply (AddLine Bottom (NewRule (codes "%.o ${c}") Single []))) ∷ on_line 4 Undo ∷ [])) ∷  -- random-304
    (codes "assign bottom CC ?= \"$#\"\ndepend-order $$ foo", Ok (on_line 1 (Apply (AddLine Bottom (NewAssign (codes "CC") Conditional (codes "$#")))) ∷ on_line 2 (Apply (ChangePrereqs None (codes "$$") (AddPrereq true (codes "foo")))) ∷ [])) ∷  -- random-305
    (codes "assign bottom e = %.c\n nth 0 undepend %.o .PHONY\n\"assign\" bottom >q := \"; foo\"\nassign bottom -x_9 != \"b -include2\"\nrecipe $(q:;=|) \" a\"\nassign bottom a.b := \": $(s\\\\)\"\nundo\n", Ok (on_line 1 (Apply (AddLine Bottom (NewAssign (codes "e") Recursive (codes "%.c")))) ∷ on_line 2 (Apply (ChangePrereqs (Some 0) (codes "%.o") (RemovePrereq (codes ".PHONY")))) ∷ on_line 3 (Apply (AddLine Bottom (NewAssign (codes ">q") Simple (codes "; foo")))) ∷ on_line 4 (Apply (AddLine Bottom (NewAssign (codes "-x_9") Shell (codes "b -include2")))) ∷ on_line 5 (Apply (AddRecipe None (codes "$(q:;=|)") Last (codes " a"))) ∷ on_line 6 (Apply (AddLine Bottom (NewAssign (codes "a.b") Simple (codes ": $(s\\)")))) ∷ on_line 7 Undo ∷ [])) ∷  -- random-306
    (codes "\"assign\" bottom endef ::= \"\"\nset \"endef\" \"\\\\$x $(f {)\"\nnth 0 \"unset\" endef\n nth  4294967295  set  endef  |", Ok (on_line 1 (Apply (AddLine Bottom (NewAssign (codes "endef") PosixSimple []))) ∷ on_line 2 (Apply (ChangeValue (One None) (codes "endef") (edits.Set (codes "\\$x $(f {)")))) ∷ on_line 3 (Apply (RemoveLines (OfAssign (Some 0) (codes "endef")))) ∷ on_line 4 (Apply (ChangeValue (One (Some 4294967295)) (codes "endef") (edits.Set (codes "|")))) ∷ [])) ∷  -- random-307
    (codes "\"rule\" \"before-var\" >q \"$(a b) a&b\" \":\" \"\"\nrule bottom $x \":\" \"$(a b) $x\"\nset >q \"${g(}\"\nset\t>q\t\"\"\nrule after-var >q \"$(p #)\" :: \"%.c foo\"\nset >q \"$(p #)\"\nundo\nredo\nset \">q\" \"c %.c\"", Ok (on_line 1 (Apply (AddLine (BeforeVar None (codes ">q")) (NewRule (codes "$(a b) a&b") Single []))) ∷ on_line 2 (Apply (AddLine Bottom (NewRule (codes "$x") Single (codes "$(a b) $x")))) ∷ on_line 3 (Apply (ChangeValue (One None) (codes ">q") (edits.Set (codes "${g(}")))) ∷ on_line 4 (Apply (ChangeValue (One None) (codes ">q") (edits.Set []))) ∷ on_line 5 (Apply (AddLine (AfterVar None (codes ">q")) (NewRule (codes "$(p #)") Double (codes "%.c foo")))) ∷ on_line 6 (Apply (ChangeValue (One None) (codes ">q") (edits.Set (codes "$(p #)")))) ∷ on_line 7 Undo ∷ on_line 8 Redo ∷ on_line 9 (Apply (ChangeValue (One None) (codes ">q") (edits.Set (codes "c %.c")))) ∷ [])) ∷  -- random-309
    (codes "\"recipe\" x.o \"y # z\"\ncancel\nnth 2 \"unrule\" x.o\nassign\t\"before-rule\"\ta\tt1\t:=\t\"${c} x.o\"\nrule bottom \"%.o\" : \"override %.o\"\nrule\t\"before-rule\"\ty\tb\t\":\"\t\"\"\n", Ok (on_line 1 (Apply (AddRecipe None (codes "x.o") Last (codes "y # z"))) ∷ on_line 2 Cancel ∷ on_line 3 (Apply (RemoveLines (OfRule (Some 2) (codes "x.o")))) ∷ on_line 4 (Apply (AddLine (BeforeRule None (codes "a")) (NewAssign (codes "t1") Simple (codes "${c} x.o")))) ∷ on_line 5 (Apply (AddLine Bottom (NewRule (codes "%.o") Single (codes "override %.o")))) ∷ on_line 6 (Apply (AddLine (BeforeRule None (codes "y")) (NewRule (codes "b") Single []))) ∷ [])) ∷  -- random-310
    (codes "redo\r\nnth 4294967295 undepend b foo\r\nundepend  b  \"$(q:;=|)\"\r\nunset  .RECIPEPREFIX\r\nredo\r\nassign  after-var  .RECIPEPREFIX  \"t\"  =  \"b\"\r\nend", Ok (on_line 1 Redo ∷ on_line 2 (Apply (ChangePrereqs (Some 4294967295) (codes "b") (RemovePrereq (codes "foo")))) ∷ on_line 3 (Apply (ChangePrereqs None (codes "b") (RemovePrereq (codes "$(q:;=|)")))) ∷ on_line 4 (Apply (RemoveLines (OfAssign None (codes ".RECIPEPREFIX")))) ∷ on_line 5 Redo ∷ on_line 6 (Apply (AddLine (AfterVar None (codes ".RECIPEPREFIX")) (NewAssign (codes "t") Recursive (codes "b")))) ∷ on_line 7 End ∷ [])) ∷  -- random-311
    (codes "begin\nunrule a&b\nunset \".RECIPEPREFIX\"\ndepend y $$\nrecipe y \"t\"\nappend \".RECIPEPREFIX\" \"b a\\\\:b\"\nrename ${c} %.o\nbegin\n", Ok (on_line 1 Begin ∷ on_line 2 (Apply (RemoveLines (OfRule None (codes "a&b")))) ∷ on_line 3 (Apply (RemoveLines (OfAssign None (codes ".RECIPEPREFIX")))) ∷ on_line 4 (Apply (ChangePrereqs None (codes "y") (AddPrereq false (codes "$$")))) ∷ on_line 5 (Apply (AddRecipe None (codes "y") Last (codes "t"))) ∷ on_line 6 (Apply (ChangeValue (One None) (codes ".RECIPEPREFIX") (edits.Append (codes "b a\\:b")))) ∷ on_line 7 (Apply (RenameTarget (codes "${c}") (codes "%.o"))) ∷ on_line 8 Begin ∷ [])) ∷  -- random-312
    (codes "\"nth\" \"4294967295\" unset a.b\nnth\t002\tunset\ta.b\nredo\ndepend-order \".PHONY\" foo\n unset \"a.b\"\nredo\n undepend .PHONY foo\nredo\nrule before-rule \".PHONY\" \"$(a b) ${g(}\" : \".PHONY %.o\"\n\"rename\"  \"$(p #)\"  a&b\nassign  after-var  -x_9  \"endef\"  ?=  t\n", Ok (on_line 1 (Apply (RemoveLines (OfAssign (Some 4294967295) (codes "a.b")))) ∷ on_line 2 (Apply (RemoveLines (OfAssign (Some 2) (codes "a.b")))) ∷ on_line 3 Redo ∷ on_line 4 (Apply (ChangePrereqs None (codes ".PHONY") (AddPrereq true (codes "foo")))) ∷ on_line 5 (Apply (RemoveLines (OfAssign None (codes "a.b")))) ∷ on_line 6 Redo ∷ on_line 7 (Apply (ChangePrereqs None (codes ".PHONY") (RemovePrereq (codes "foo")))) ∷ on_line 8 Redo ∷ on_line 9 (Apply (AddLine (BeforeRule None (codes ".PHONY")) (NewRule (codes "$(a b) ${g(}") Single (codes ".PHONY %.o")))) ∷ on_line 10 (Apply (RenameTarget (codes "$(p #)") (codes "a&b"))) ∷ on_line 11 (Apply (AddLine (AfterVar None (codes "-x_9")) (NewAssign (codes "endef") Conditional (codes "t")))) ∷ [])) ∷  -- random-313
    (codes "undo\r\nnth 0 assign after-var .RECIPEP{EFIX X :::= \"$(s\\\\) t\"\r\nbegin\r\n", Ok (on_line 1 Undo ∷ on_line 2 (Apply (AddLine (AfterVar (Some 0) (codes ".RECIPEP{EFIX")) (NewAssign (codes "X") Immediate (codes "$(s\\) t")))) ∷ on_line 3 Begin ∷ [])) ∷  -- random-314
    (codes "\"assign\" before-rule \"foo\" \"ifdef\" :::= :\nnth 1 recipe \"a\\\\ b\" cÿ\nset\tifdef\ta\n \"nth\" \"4294967295\" recipe foo \"cÿ\"\nrecipe foo \"e f \\\\ g\"\nunset ifdef\n\"unset\" a\\=\nset \"X\" 1", Ok (on_line 1 (Apply (AddLine (BeforeRule None (codes "foo")) (NewAssign (codes "ifdef") Immediate (codes ":")))) ∷ on_line 2 (Apply (AddRecipe (Some 1) (codes "a\\ b") Last (codes "cÿ"))) ∷ on_line 3 (Apply (ChangeValue (One None) (codes "ifdef") (edits.Set (codes "a")))) ∷ on_line 4 (Apply (AddRecipe (Some 4294967295) (codes "foo") Last (codes "cÿ"))) ∷ on_line 5 (Apply (AddRecipe None (codes "foo") Last (codes "e f \\ g"))) ∷ on_line 6 (Apply (RemoveLines (OfAssign None (codes "ifdef")))) ∷ on_line 7 (Apply (RemoveLines (OfAssign None (codes "a\\=")))) ∷ on_line 8 (Apply (ChangeValue (One None) (codes "X") (edits.Set (codes "1")))) ∷ [])) ∷  -- random-315
    (codes "assign \"bottom\" A := :\nundo\nundo\nassign bottom t \"=\" \"2 3 %.c\"\nundo\ndepend\t$(u\ta\nundo\nassign bottom \"t1\" += \"%.c \\\\#\"\n", Ok (on_line 1 (Apply (AddLine Bottom (NewAssign (codes "A") Simple (codes ":")))) ∷ on_line 2 Undo ∷ on_line 3 Undo ∷ on_line 4 (Apply (AddLine Bottom (NewAssign (codes "t") Recursive (codes "2 3 %.c")))) ∷ on_line 5 Undo ∷ on_line 6 (Apply (ChangePrereqs None (codes "$(u") (AddPrereq false (codes "a")))) ∷ on_line 7 Undo ∷ on_line 8 (Apply (AddLine Bottom (NewAssign (codes "t1") Append (codes "%.c \\#")))) ∷ [])) ∷  -- random-316
    (codes "unset  .RECIPEPREFIX\nundo\n assign after-var t1 \"e\" \"!=\" a\\:b\nend\nrecipe-set \"$$\" 0 define", Ok (on_line 1 (Apply (RemoveLines (OfAssign None (codes ".RECIPEPREFIX")))) ∷ on_line 2 Undo ∷ on_line 3 (Apply (AddLine (AfterVar None (codes "t1")) (NewAssign (codes "e") Shell (codes "a\\:b")))) ∷ on_line 4 End ∷ on_line 5 (Apply (SetRecipe None (codes "$$") (ByNumber 0) (codes "define"))) ∷ [])) ∷  -- random-317
    (codes "end\r\nredo\r\nrule before-var override a&b \":\" \"\"\r\nassign  bottom  define  :=  ${g(}\r\nunset define", Ok (on_line 1 End ∷ on_line 2 Redo ∷ on_line 3 (Apply (AddLine (BeforeVar None (codes "override")) (NewRule (codes "a&b") Single []))) ∷ on_line 4 (Apply (AddLine Bottom (NewAssign (codes "define") Simple (codes "${g(}")))) ∷ on_line 5 (Apply (RemoveLines (OfAssign None (codes "define")))) ∷ [])) ∷  -- random-318
    (codes "recipe \"${c}\" \"\tb\"\n", Ok (on_line 1 (Apply (AddRecipe None (codes "${c}") Last (codes "\tb"))) ∷ [])) ∷  -- random-319
    (codes "cancel\n\"recipe\" c cÿ\n", Ok (on_line 1 Cancel ∷ on_line 2 (Apply (AddRecipe None (codes "c") Last (codes "cÿ"))) ∷ [])) ∷  -- random-320
    (codes "undo\nrename \"$(a b)\" $$\nbegin\nundo\nrename -include2 .PHONY\n rule \"before-rule\" \"$x\" \"%.o $(f {)\" :: ${c}\n\"unset\"\tendef\nrecipe-set \"$(p #)\" \"0\" q:=1", Ok (on_line 1 Undo ∷ on_line 2 (Apply (RenameTarget (codes "$(a b)") (codes "$$"))) ∷ on_line 3 Begin ∷ on_line 4 Undo ∷ on_line 5 (Apply (RenameTarget (codes "-include2") (codes ".PHONY"))) ∷ on_line 6 (Apply (AddLine (BeforeRule None (codes "$x")) (NewRule (codes "%.o $(f {)") Double (codes "${c}")))) ∷ on_line 7 (Apply (RemoveLines (OfAssign None (codes "endef")))) ∷ on_line 8 (Apply (SetRecipe None (codes "$(p #)") (ByNumber 0) (codes "q:=1"))) ∷ [])) ∷  -- random-321
    (codes "rule bottom foo :: foo\n", Ok (on_line 1 (Apply (AddLine Bottom (NewRule (codes "foo") Double (codes "foo")))) ∷ [])) ∷  -- random-322
    (codes "depend-order foo \"x=1\"\n\"nth\" \"4294967295\" \"undepend\" foo x.o\nnth 4294967295 depend-order foo b\nnth 4294967295 rule before-rule foo ${c} :: \"$(f {) $(f {)\"\nrecipe-del %.o 001\n\"depend\"\t\"foo\"\t\"b\"\nrename $(q:;=|) b\nundepend \"foo\" a\nnth 4294967295 append override \"${g(}\"\nrename\t\"foo\"\t.PHONY\n", Ok (on_line 1 (Apply (ChangePrereqs None (codes "foo") (AddPrereq true (codes "x=1")))) ∷ on_line 2 (Apply (ChangePrereqs (Some 4294967295) (codes "foo") (RemovePrereq (codes "x.o")))) ∷ on_line 3 (Apply (ChangePrereqs (Some 4294967295) (codes "foo") (AddPrereq true (codes "b")))) ∷ on_line 4 (Apply (AddLine (BeforeRule (Some 4294967295) (codes "foo")) (NewRule (codes "${c}") Double (codes "$(f {) $(f {)")))) ∷ on_line 5 (Apply (RemoveLines (OfRecipe None (codes "%.o") (ByNumber 1)))) ∷ on_line 6 (Apply (ChangePrereqs None (codes "foo") (AddPrereq false (codes "b")))) ∷ on_line 7 (Apply (RenameTarget (codes "$(q:;=|)") (codes "b"))) ∷ on_line 8 (Apply (ChangePrereqs None (codes "foo") (RemovePrereq (codes "a")))) ∷ on_line 9 (Apply (ChangeValue (One (Some 4294967295)) (codes "override") (edits.Append (codes "${g(}")))) ∷ on_line 10 (Apply (RenameTarget (codes "foo") (codes ".PHONY"))) ∷ [])) ∷  -- random-323
    (codes "redo\r\n \"rule\" bottom \"\" :: \"$(a b) t\"\r\nundo\r\n", Ok (on_line 1 Redo ∷ on_line 2 (Apply (AddLine Bottom (NewRule [] Double (codes "$(a b) t")))) ∷ on_line 3 Undo ∷ [])) ∷  -- random-324
    (codes "rule \"bottom\" \"b\" :: foo\nundo\nassign bottom ifdef ::= \": ${g(}\"\nnth 2 append ifdef .PHONY\nundo\n\"assign\" \"bottom\" e \"=\" t\nappend e \";\"\n\"unset\" \"e\"\nend\nassign bottom \"override\" += \"\"\n", Ok (on_line 1 (Apply (AddLine Bottom (NewRule (codes "b") Double (codes "foo")))) ∷ on_line 2 Undo ∷ on_line 3 (Apply (AddLine Bottom (NewAssign (codes "ifdef") PosixSimple (codes ": ${g(}")))) ∷ on_line 4 (Apply (ChangeValue (One (Some 2)) (codes "ifdef") (edits.Append (codes ".PHONY")))) ∷ on_line 5 Undo ∷ on_line 6 (Apply (AddLine Bottom (NewAssign (codes "e") Recursive (codes "t")))) ∷ on_line 7 (Apply (ChangeValue (One None) (codes "e") (edits.Append (codes ";")))) ∷ on_line 8 (Apply (RemoveLines (OfAssign None (codes "e")))) ∷ on_line 9 End ∷ on_line 10 (Apply (AddLine Bottom (NewAssign (codes "override") Append []))) ∷ [])) ∷  -- random-325
    (codes "assign bottom endef ?= \"\"\r\nundo\r\n\"rule\"  \"bottom\"  \"x.o\"  ::  $(q:;=|)\r\n", Ok (on_line 1 (Apply (AddLine Bottom (NewAssign (codes "endef") Conditional []))) ∷ on_line 2 Undo ∷ on_line 3 (Apply (AddLine Bottom (NewRule (codes "x.o") Double (codes "$(q:;=|)")))) ∷ [])) ∷  -- random-326
    (codes "\"set\" CC \".PHONY\"\nunrule y\n\"depend\" y \"$(p #)\"\nnth 4294967295 set CC ;\nundepend  y  \"$(p #)\"\n\"rule\" before-var \"CC\" $$ \"::\" \"t x.o\"\n", Ok (on_line 1 (Apply (ChangeValue (One None) (codes "CC") (edits.Set (codes ".PHONY")))) ∷ on_line 2 (Apply (RemoveLines (OfRule None (codes "y")))) ∷ on_line 3 (Apply (ChangePrereqs None (codes "y") (AddPrereq false (codes "$(p #)")))) ∷ on_line 4 (Apply (ChangeValue (One (Some 4294967295)) (codes "CC") (edits.Set (codes ";")))) ∷ on_line 5 (Apply (ChangePrereqs None (codes "y") (RemovePrereq (codes "$(p #)")))) ∷ on_line 6 (Apply (AddLine (BeforeVar None (codes "CC")) (NewRule (codes "$$") Double (codes "t x.o")))) ∷ [])) ∷  -- random-327
    (codes "end\nassign bottom \"endef\" += \"b %.c\"\n rename $(s\\) \"$(s\\\\)\"\nend\nassign bottom a.b != \"$$ $(s\\\\)\"\nassign bottom ifdef \"?=\" \"foo a\"\nassign bottom e != \"-include2 c\"\n\"rule\" bottom \"\" :: \"\"\n", Ok (on_line 1 End ∷ on_line 2 (Apply (AddLine Bottom (NewAssign (codes "endef") Append (codes "b %.c")))) ∷ on_line 3 (Apply (RenameTarget (codes "$(s\\)") (codes "$(s\\)"))) ∷ on_line 4 End ∷ on_line 5 (Apply (AddLine Bottom (NewAssign (codes "a.b") Shell (codes "$$ $(s\\)")))) ∷ on_line 6 (Apply (AddLine Bottom (NewAssign (codes "ifdef") Conditional (codes "foo a")))) ∷ on_line 7 (Apply (AddLine Bottom (NewAssign (codes "e") Shell (codes "-include2 c")))) ∷ on_line 8 (Apply (AddLine Bottom (NewRule [] Double []))) ∷ [])) ∷  -- random-328
    (codes "depend -include2 ${g(}\r\n\"assign\" bottom X ?= a\\:b\r\n\"nth\" 4294967295 append \"override\" =\r\n rule before-var X \"\" : %.c\r\nunset  \"X\"\r\nassign bottom >q :::= \"\"\r\nassign bottom e = \"%.c $(a b)\"\r\nbegin\r\nassign \"bottom\" \"Y\" != ${c}\r\n", Ok (on_line 1 (Apply (ChangePrereqs None (codes "-include2") (AddPrereq false (codes "${g(}")))) ∷ on_line 2 (Apply (AddLine Bottom (NewAssign (codes "X") Conditional (codes "a\\:b")))) ∷ on_line 3 (Apply (ChangeValue (One (Some 4294967295)) (codes "override") (edits.Append (codes "=")))) ∷ on_line 4 (Apply (AddLine (BeforeVar None (codes "X")) (NewRule [] Single (codes "%.c")))) ∷ on_line 5 (Apply (RemoveLines (OfAssign None (codes "X")))) ∷ on_line 6 (Apply (AddLine Bottom (NewAssign (codes ">q") Immediate []))) ∷ on_line 7 (Apply (AddLine Bottom (NewAssign (codes "e") Recursive (codes "%.c $(a b)")))) ∷ on_line 8 Begin ∷ on_line 9 (Apply (AddLine Bottom (NewAssign (codes "Y") Shell (codes "${c}")))) ∷ [])) ∷  -- random-329
    (codes "undo\nbegin\ndepend \"t\" c\n recipe t \"y # z\"\n", Ok (on_line 1 Undo ∷ on_line 2 Begin ∷ on_line 3 (Apply (ChangePrereqs None (codes "t") (AddPrereq false (codes "c")))) ∷ on_line 4 (Apply (AddRecipe None (codes "t") Last (codes "y # z"))) ∷ [])) ∷  -- random-330
    (codes "recipe-del\t\"${g(}\"\t\"2\"\nundo\nset Y \"\"\nundepend a \"$(f {)\"\n", Ok (on_line 1 (Apply (RemoveLines (OfRecipe None (codes "${g(}") (ByNumber 2)))) ∷ on_line 2 Undo ∷ on_line 3 (Apply (ChangeValue (One None) (codes "Y") (edits.Set []))) ∷ on_line 4 (Apply (ChangePrereqs None (codes "a") (RemovePrereq (codes "$(f {)")))) ∷ [])) ∷  -- random-331
    []

answers_6 : map (λ row. read_script row.0) rows_6 ≡ map (λ row. row.1) rows_6
unfolding line_len lines_from
answers_6 = refl

abbrev rows_7 : List (List ℕ × Result (List Step) ℕ)
rows_7 =
    (codes "nth 001 assign before-var define A ?= \"\"\nnth 002 unset define\nappend define \":\"\nundo\ndepend \"a\" -include2\nappend define \"$(p #)\"\nnth 001 \"recipe-del\" a 1\nset A \"$(f {)\"\nundepend\ta\t%.c\nnth\t0\tdepend\t\"a\"\t%.o\n", Ok (on_line 1 (Apply (AddLine (BeforeVar (Some 1) (codes "define")) (NewAssign (codes "A") Conditional []))) ∷ on_line 2 (Apply (RemoveLines (OfAssign (Some 2) (codes "define")))) ∷ on_line 3 (Apply (ChangeValue (One None) (codes "define") (edits.Append (codes ":")))) ∷ on_line 4 Undo ∷ on_line 5 (Apply (ChangePrereqs None (codes "a") (AddPrereq false (codes "-include2")))) ∷ on_line 6 (Apply (ChangeValue (One None) (codes "define") (edits.Append (codes "$(p #)")))) ∷ on_line 7 (Apply (RemoveLines (OfRecipe (Some 1) (codes "a") (ByNumber 1)))) ∷ on_line 8 (Apply (ChangeValue (One None) (codes "A") (edits.Set (codes "$(f {)")))) ∷ on_line 9 (Apply (ChangePrereqs None (codes "a") (RemovePrereq (codes "%.c")))) ∷ on_line 10 (Apply (ChangePrereqs (Some 0) (codes "a") (AddPrereq false (codes "%.o")))) ∷ [])) ∷  -- random-332
    (codes "set override \"${c} $(s\\\\)\"\nredo\nset override \"\"\nassign bottom endef += $$\n\"nth\" 4294967295 rule \"after-var\" endef $$ : \"${g(} $$\"\nredo\nrule\tbottom\t$$\t\"::\"\t${c}\nrename ${c} \"$(f {)\"\ndepend-order \"$$\" c", Ok (on_line 1 (Apply (ChangeValue (One None) (codes "override") (edits.Set (codes "${c} $(s\\)")))) ∷ on_line 2 Redo ∷ on_line 3 (Apply (ChangeValue (One None) (codes "override") (edits.Set []))) ∷ on_line 4 (Apply (AddLine Bottom (NewAssign (codes "endef") Append (codes "$$")))) ∷ on_line 5 (Apply (AddLine (AfterVar (Some 4294967295) (codes "endef")) (NewRule (codes "$$") Single (codes "${g(} $$")))) ∷ on_line 6 Redo ∷ on_line 7 (Apply (AddLine Bottom (NewRule (codes "$$") Double (codes "${c}")))) ∷ on_line 8 (Apply (RenameTarget (codes "${c}") (codes "$(f {)"))) ∷ on_line 9 (Apply (ChangePrereqs None (codes "$$") (AddPrereq true (codes "c")))) ∷ [])) ∷  -- random-333
    (codes "rule bottom ${g(} :: \"\"", Ok (on_line 1 (Apply (AddLine Bottom (NewRule (codes "${g(}") Double []))) ∷ [])) ∷  -- random-334
    (codes "set .RECIPEPREFIX \"a\\\\:b |\"\nrecipe-set \"%.c\" 0 x\n \"unset\" .RECIPEPREFIX\nrecipe-del \"x.o\" 0\nrecipe\tx.o\tdefine\nnth 001 rule before-rule x.o \"$(f {) override\" : \"$$ a&b\"\nrename %.c a\nrename c -include2\n\"undepend\" x.o $$\nbegin", Ok (on_line 1 (Apply (ChangeValue (One None) (codes ".RECIPEPREFIX") (edits.Set (codes "a\\:b |")))) ∷ on_line 2 (Apply (SetRecipe None (codes "%.c") (ByNumber 0) (codes "x"))) ∷ on_line 3 (Apply (RemoveLines (OfAssign None (codes ".RECIPEPREFIX")))) ∷ on_line 4 (Apply (RemoveLines (OfRecipe None (codes "x.o") (ByNumber 0)))) ∷ on_line 5 (Apply (AddRecipe None (codes "x.o") Last (codes "define"))) ∷ on_line 6 (Apply (AddLine (BeforeRule (Some 1) (codes "x.o")) (NewRule (codes "$(f {) override") Single (codes "$$ a&b")))) ∷ on_line 7 (Apply (RenameTarget (codes "%.c") (codes "a"))) ∷ on_line 8 (Apply (RenameTarget (codes "c") (codes "-include2"))) ∷ on_line 9 (Apply (ChangePrereqs None (codes "x.o") (RemovePrereq (codes "$$")))) ∷ on_line 10 Begin ∷ [])) ∷  -- random-335
    (codes "assign \"before-var\" Y define :::= b\r\nappend\tY\t\"a&b\"\r\nredo\r\nassign after-var define t1 += \"a\\\\:b\"\r\n\"append\" define \"$x \\\\#\"\r\nunset  define\r\n\"append\" Y \"-include2 \\\\\"\r\n\"rule\" bottom \"-include2\" : \"b %.o\"\r\nrename -include2 \"$(p #)\"\r\n recipe-set \"$(p #)\" 2 t\r\nnth 4294967295 \"unrule\" \"$(p #)\"\r\n", Ok (on_line 1 (Apply (AddLine (BeforeVar None (codes "Y")) (NewAssign (codes "define") Immediate (codes "b")))) ∷ on_line 2 (Apply (ChangeValue (One None) (codes "Y") (edits.Append (codes "a&b")))) ∷ on_line 3 Redo ∷ on_line 4 (Apply (AddLine (AfterVar None (codes "define")) (NewAssign (codes "t1") Append (codes "a\\:b")))) ∷ on_line 5 (Apply (ChangeValue (One None) (codes "define") (edits.Append (codes "$x \\#")))) ∷ on_line 6 (Apply (RemoveLines (OfAssign None (codes "define")))) ∷ on_line 7 (Apply (ChangeValue (One None) (codes "Y") (edits.Append (codes "-include2 \\")))) ∷ on_line 8 (Apply (AddLine Bottom (NewRule (codes "-include2") Single (codes "b %.o")))) ∷ on_line 9 (Apply (RenameTarget (codes "-include2") (codes "$(p #)"))) ∷ on_line 10 (Apply (SetRecipe None (codes "$(p #)") (ByNumber 2) (codes "t"))) ∷ on_line 11 (Apply (RemoveLines (OfRule (Some 4294967295) (codes "$(p #)")))) ∷ [])) ∷  -- random-336
    (codes "assign \"bottom\" ifdef ::= \"$(f {)\"\n\"rename\" \"y\" a&b", Ok (on_line 1 (Apply (AddLine Bottom (NewAssign (codes "ifdef") PosixSimple (codes "$(f {)")))) ∷ on_line 2 (Apply (RenameTarget (codes "y") (codes "a&b"))) ∷ [])) ∷  -- random-337
    (codes "depend x.o ${c}\n", Ok (on_line 1 (Apply (ChangePrereqs None (codes "x.o") (AddPrereq false (codes "${c}")))) ∷ [])) ∷  -- random-338
    (codes "nth 2 set .RECIPEPREFIX \"\"\nset .RECIPEPREFIX b\nunset .RECIPEPREFIX\n recipe-set \"$(a b)\" 2 \"e f \\\\ g\"\n nth \"000\" unset .RECIPEPREFIX\nnth \"0\" assign after-var .RECIPEPREFIX \"Y\" :::= $$\nset override t\nunset A\n\"recipe-set\" a 2 $(\nredo\n nth \"4294967295\" \"append\" \".RECIPEPREFIX\" \"\"\n", Ok (on_line 1 (Apply (ChangeValue (One (Some 2)) (codes ".RECIPEPREFIX") (edits.Set []))) ∷ on_line 2 (Apply (ChangeValue (One None) (codes ".RECIPEPREFIX") (edits.Set (codes "b")))) ∷ on_line 3 (Apply (RemoveLines (OfAssign None (codes ".RECIPEPREFIX")))) ∷ on_line 4 (Apply (SetRecipe None (codes "$(a b)") (ByNumber 2) (codes "e f \\ g"))) ∷ on_line 5 (Apply (RemoveLines (OfAssign (Some 0) (codes ".RECIPEPREFIX")))) ∷ on_line 6 (Apply (AddLine (AfterVar (Some 0) (codes ".RECIPEPREFIX")) (NewAssign (codes "Y") Immediate (codes "$$")))) ∷ on_line 7 (Apply (ChangeValue (One None) (codes "override") (edits.Set (codes "t")))) ∷ on_line 8 (Apply (RemoveLines (OfAssign None (codes "A")))) ∷ on_line 9 (Apply (SetRecipe None (codes "a") (ByNumber 2) (codes "$("))) ∷ on_line 10 Redo ∷ on_line 11 (Apply (ChangeValue (One (Some 4294967295)) (codes ".RECIPEPREFIX") (edits.Append []))) ∷ [])) ∷  -- random-339
    (codes "undo\nnth 001 undepend c \"$(f {)\"\nredo\nunrule\tx.o\nnth 4294967295 assign \"after-var\" t1 Y := \"\"\nundo\nnth 1 unset X$:\ncancel\nrecipe c \"t\"\nrename\tc\tÃ©\n", Ok (on_line 1 Undo ∷ on_line 2 (Apply (ChangePrereqs (Some 1) (codes "c") (RemovePrereq (codes "$(f {)")))) ∷ on_line 3 Redo ∷ on_line 4 (Apply (RemoveLines (OfRule None (codes "x.o")))) ∷ on_line 5 (Apply (AddLine (AfterVar (Some 4294967295) (codes "t1")) (NewAssign (codes "Y") Simple []))) ∷ on_line 6 Undo ∷ on_line 7 (Apply (RemoveLines (OfAssign (Some 1) (codes "X$:")))) ∷ on_line 8 Cancel ∷ on_line 9 (Apply (AddRecipe None (codes "c") Last (codes "t"))) ∷ on_line 10 (Apply (RenameTarget (codes "c") (codes "Ã©"))) ∷ [])) ∷  -- random-340
    (codes "recipe x.o \"\"\nredo\n\"append\" A \"\"\nundo\n\"recipe\" x.o t\nassign \"bottom\" t1 ::= $(s\\)\ndepend y \"$(p #)\"\nend\n\"recipe-set\"  y  001  \"y # z\"\nundo\n", Ok (on_line 1 (Apply (AddRecipe None (codes "x.o") Last [])) ∷ on_line 2 Redo ∷ on_line 3 (Apply (ChangeValue (One None) (codes "A") (edits.Append []))) ∷ on_line 4 Undo ∷ on_line 5 (Apply (AddRecipe None (codes "x.o") Last (codes "t"))) ∷ on_line 6 (Apply (AddLine Bottom (NewAssign (codes "t1") PosixSimple (codes "$(s\\)")))) ∷ on_line 7 (Apply (ChangePrereqs None (codes "y") (AddPrereq false (codes "$(p #)")))) ∷ on_line 8 End ∷ on_line 9 (Apply (SetRecipe None (codes "y") (ByNumber 1) (codes "y # z"))) ∷ on_line 10 Undo ∷ [])) ∷  -- random-341
    (codes "redo\nset\t\"override\"\ta\nset override \"\"\nunset  override\nundo\nset\toverride\t1\nnth 002 assign after-var override override += a&b\nunset override\n rule bottom \"$(a b)\" : \"$(p #)\"\nrecipe-set \"$(a b)\" \"1\" \" a\"\n \"depend-order\" \"$(a b)\" $(s\\)", Ok (on_line 1 Redo ∷ on_line 2 (Apply (ChangeValue (One None) (codes "override") (edits.Set (codes "a")))) ∷ on_line 3 (Apply (ChangeValue (One None) (codes "override") (edits.Set []))) ∷ on_line 4 (Apply (RemoveLines (OfAssign None (codes "override")))) ∷ on_line 5 Undo ∷ on_line 6 (Apply (ChangeValue (One None) (codes "override") (edits.Set (codes "1")))) ∷ on_line 7 (Apply (AddLine (AfterVar (Some 2) (codes "override")) (NewAssign (codes "override") Append (codes "a&b")))) ∷ on_line 8 (Apply (RemoveLines (OfAssign None (codes "override")))) ∷ on_line 9 (Apply (AddLine Bottom (NewRule (codes "$(a b)") Single (codes "$(p #)")))) ∷ on_line 10 (Apply (SetRecipe None (codes "$(a b)") (ByNumber 1) (codes " a"))) ∷ on_line 11 (Apply (ChangePrereqs None (codes "$(a b)") (AddPrereq true (codes "$(s\\)")))) ∷ [])) ∷  -- random-342
    (codes "unset Y\nnth  1  set  t1  \"\"\nrecipe b t\n recipe-set a 2 \"y # z\"", Ok (on_line 1 (Apply (RemoveLines (OfAssign None (codes "Y")))) ∷ on_line 2 (Apply (ChangeValue (One (Some 1)) (codes "t1") (edits.Set []))) ∷ on_line 3 (Apply (AddRecipe None (codes "b") Last (codes "t"))) ∷ on_line 4 (Apply (SetRecipe None (codes "a") (ByNumber 2) (codes "y # z"))) ∷ [])) ∷  -- random-343
    (codes "nth 0 depend-order $(s\\) -include2\nbegin\nbegin\nundo\nundo\n", Ok (on_line 1 (Apply (ChangePrereqs (Some 0) (codes "$(s\\)") (AddPrereq true (codes "-include2")))) ∷ on_line 2 Begin ∷ on_line 3 Begin ∷ on_line 4 Undo ∷ on_line 5 Undo ∷ [])) ∷  -- random-344
    (codes "redo\n\"unset\" define\nassign bottom endef ?= \"| $(f {)\"\nappend  \"endef\"  $(q:;=|)\nappend endef \";\"\n nth \"2\" set endef \"foo \\\\$x\"\n", Ok (on_line 1 Redo ∷ on_line 2 (Apply (RemoveLines (OfAssign None (codes "define")))) ∷ on_line 3 (Apply (AddLine Bottom (NewAssign (codes "endef") Conditional (codes "| $(f {)")))) ∷ on_line 4 (Apply (ChangeValue (One None) (codes "endef") (edits.Append (codes "$(q:;=|)")))) ∷ on_line 5 (Apply (ChangeValue (One None) (codes "endef") (edits.Append (codes ";")))) ∷ on_line 6 (Apply (ChangeValue (One (Some 2)) (codes "endef") (edits.Set (codes "foo \\$x")))) ∷ [])) ∷  -- random-345
    (codes "append ifdef %.o\r\nunset ifdef\r\nredo\r\nundo\r\nrename a&b $$\r\n\"rename\" ${c} -include2\r\nnth 4294967295 depend \"b\" \"$(f {)\"", Ok (on_line 1 (Apply (ChangeValue (One None) (codes "ifdef") (edits.Append (codes "%.o")))) ∷ on_line 2 (Apply (RemoveLines (OfAssign None (codes "ifdef")))) ∷ on_line 3 Redo ∷ on_line 4 Undo ∷ on_line 5 (Apply (RenameTarget (codes "a&b") (codes "$$"))) ∷ on_line 6 (Apply (RenameTarget (codes "${c}") (codes "-include2"))) ∷ on_line 7 (Apply (ChangePrereqs (Some 4294967295) (codes "b") (AddPrereq false (codes "$(f {)")))) ∷ [])) ∷  -- random-346
    (codes "rule after-var override $(s\\) :: \"b %.c\"\nnth 0 recipe $(s\\) \" a\"\nundo\n\"nth\" 2 append \"override\" \"a&b a&b\"\nnth 2 recipe-del a&b 0\nappend override \"foo\"\n", Ok (on_line 1 (Apply (AddLine (AfterVar None (codes "override")) (NewRule (codes "$(s\\)") Double (codes "b %.c")))) ∷ on_line 2 (Apply (AddRecipe (Some 0) (codes "$(s\\)") Last (codes " a"))) ∷ on_line 3 Undo ∷ on_line 4 (Apply (ChangeValue (One (Some 2)) (codes "override") (edits.Append (codes "a&b a&b")))) ∷ on_line 5 (Apply (RemoveLines (OfRecipe (Some 2) (codes "a&b") (ByNumber 0)))) ∷ on_line 6 (Apply (ChangeValue (One None) (codes "override") (edits.Append (codes "foo")))) ∷ [])) ∷  -- random-347
    (codes " \"rule\" after-var \"CC\" ${g(} : \"$(f {) ${g(}\"\nrename ${g(} x.o\nbegin\nredo", Ok (on_line 1 (Apply (AddLine (AfterVar None (codes "CC")) (NewRule (codes "${g(}") Single (codes "$(f {) ${g(}")))) ∷ on_line 2 (Apply (RenameTarget (codes "${g(}") (codes "x.o"))) ∷ on_line 3 Begin ∷ on_line 4 Redo ∷ [])) ∷  -- random-348
    (codes "rule bottom t : \"\"\r\n", Ok (on_line 1 (Apply (AddLine Bottom (NewRule (codes "t") Single []))) ∷ [])) ∷  -- random-349
    (codes "redo\nredo\nappend .RECIPEPREFIX %.c", Ok (on_line 1 Redo ∷ on_line 2 Redo ∷ on_line 3 (Apply (ChangeValue (One None) (codes ".RECIPEPREFIX") (edits.Append (codes "%.c")))) ∷ [])) ∷  -- random-350
    (codes "\"nth\" \"1\" undepend y .PHONY\n\"append\" X$: \\#\nassign bottom t1 ::= \".PHONY\"\nnth 2 recipe-set x.o 1 \" a\"\nnth 2 recipe \"x.o\" t\ndepend-order \"y\" foo\nnth 4294967295 undepend y x.o\nredo\nnth 1 \"recipe-del\" x.o 1\nnth \"001\" \"assign\" before-rule y A ::= 1\n\"nth\" \"2\" recipe \"x.o\" \" a\"\n\"append\"\tA\t\"2 3 c\"", Ok (on_line 1 (Apply (ChangePrereqs (Some 1) (codes "y") (RemovePrereq (codes ".PHONY")))) ∷ on_line 2 (Apply (ChangeValue (One None) (codes "X$:") (edits.Append (codes "\\#")))) ∷ on_line 3 (Apply (AddLine Bottom (NewAssign (codes "t1") PosixSimple (codes ".PHONY")))) ∷ on_line 4 (Apply (SetRecipe (Some 2) (codes "x.o") (ByNumber 1) (codes " a"))) ∷ on_line 5 (Apply (AddRecipe (Some 2) (codes "x.o") Last (codes "t"))) ∷ on_line 6 (Apply (ChangePrereqs None (codes "y") (AddPrereq true (codes "foo")))) ∷ on_line 7 (Apply (ChangePrereqs (Some 4294967295) (codes "y") (RemovePrereq (codes "x.o")))) ∷ on_line 8 Redo ∷ on_line 9 (Apply (RemoveLines (OfRecipe (Some 1) (codes "x.o") (ByNumber 1)))) ∷ on_line 10 (Apply (AddLine (BeforeRule (Some 1) (codes "y")) (NewAssign (codes "A") PosixSimple (codes "1")))) ∷ on_line 11 (Apply (AddRecipe (Some 2) (codes "x.o") Last (codes " a"))) ∷ on_line 12 (Apply (ChangeValue (One None) (codes "A") (edits.Append (codes "2 3 c")))) ∷ [])) ∷  -- random-351
    (codes "rename \".PHONY\" \"$(a b)\"\nunrule x.o\n\"assign\" bottom t1 :::= \"$(f {)\"", Ok (on_line 1 (Apply (RenameTarget (codes ".PHONY") (codes "$(a b)"))) ∷ on_line 2 (Apply (RemoveLines (OfRule None (codes "x.o")))) ∷ on_line 3 (Apply (AddLine Bottom (NewAssign (codes "t1") Immediate (codes "$(f {)")))) ∷ [])) ∷  -- random-352
    (codes "rule bottom \"a\" : \"%.c $x\"\r\nredo\r\nassign \"bottom\" \"e\" = \"\"\r\nrule \"bottom\" \"\" : \"%.c t\"\r\nredo\r\n assign bottom >q ::= \"a\"\r\n\"assign\" bottom \"e\" \"+=\" \"a =\"\r\n", Ok (on_line 1 (Apply (AddLine Bottom (NewRule (codes "a") Single (codes "%.c $x")))) ∷ on_line 2 Redo ∷ on_line 3 (Apply (AddLine Bottom (NewAssign (codes "e") Recursive []))) ∷ on_line 4 (Apply (AddLine Bottom (NewRule [] Single (codes "%.c t")))) ∷ on_line 5 Redo ∷ on_line 6 (Apply (AddLine Bottom (NewAssign (codes ">q") PosixSimple (codes "a")))) ∷ on_line 7 (Apply (AddLine Bottom (NewAssign (codes "e") Append (codes "a =")))) ∷ [])) ∷  -- random-353
    (codes "nth 0 recipe-del a \"1\"\r\n\"depend-order\" a $(q:;=|)\r\nrule before-rule \"a\" \"%.o a&b\" \"::\" c\r\nset define \"=\"\r\nassign bottom e != \"$(f {)\"\r\nbegin\r\nrename \"$$\" a&b\r\nnth 0 \"unrule\" a\r\ndepend ${v .PHONY\r\nassign before-rule %.o a.b ::= \"-include2\"", Ok (on_line 1 (Apply (RemoveLines (OfRecipe (Some 0) (codes "a") (ByNumber 1)))) ∷ on_line 2 (Apply (ChangePrereqs None (codes "a") (AddPrereq true (codes "$(q:;=|)")))) ∷ on_line 3 (Apply (AddLine (BeforeRule None (codes "a")) (NewRule (codes "%.o a&b") Double (codes "c")))) ∷ on_line 4 (Apply (ChangeValue (One None) (codes "define") (edits.Set (codes "=")))) ∷ on_line 5 (Apply (AddLine Bottom (NewAssign (codes "e") Shell (codes "$(f {)")))) ∷ on_line 6 Begin ∷ on_line 7 (Apply (RenameTarget (codes "$$") (codes "a&b"))) ∷ on_line 8 (Apply (RemoveLines (OfRule (Some 0) (codes "a")))) ∷ on_line 9 (Apply (ChangePrereqs None (codes "${v") (AddPrereq false (codes ".PHONY")))) ∷ on_line 10 (Apply (AddLine (BeforeRule None (codes "%.o")) (NewAssign (codes "a.b") PosixSimple (codes "-include2")))) ∷ [])) ∷  -- random-354
    (codes "undo\nnth 2 recipe-set c 002 \"\tb\"\n\"undepend\"  c  a\n \"rename\" \"$(p #)\" \"$(a b)\"\n", Ok (on_line 1 Undo ∷ on_line 2 (Apply (SetRecipe (Some 2) (codes "c") (ByNumber 2) (codes "\tb"))) ∷ on_line 3 (Apply (ChangePrereqs None (codes "c") (RemovePrereq (codes "a")))) ∷ on_line 4 (Apply (RenameTarget (codes "$(p #)") (codes "$(a b)"))) ∷ [])) ∷  -- random-355
    (codes " nth 4294967295 recipe $(q:;=|) x\n nth \"4294967295\" rule before-var X$: \"\" : \"\"\ndepend \"$(q:;=|)\" \"$(p #)\"\n\"nth\"\t000\t\"recipe-set\"\t$(q:;=|)\t1\t\"\"\nappend \"X$:\" \"$x %.c\"", Ok (on_line 1 (Apply (AddRecipe (Some 4294967295) (codes "$(q:;=|)") Last (codes "x"))) ∷ on_line 2 (Apply (AddLine (BeforeVar (Some 4294967295) (codes "X$:")) (NewRule [] Single []))) ∷ on_line 3 (Apply (ChangePrereqs None (codes "$(q:;=|)") (AddPrereq false (codes "$(p #)")))) ∷ on_line 4 (Apply (SetRecipe (Some 0) (codes "$(q:;=|)") (ByNumber 1) [])) ∷ on_line 5 (Apply (ChangeValue (One None) (codes "X$:") (edits.Append (codes "$x %.c")))) ∷ [])) ∷  -- random-356
    (codes "rule bottom \"$(p #) a&b\" \"::\" \"\"\nbegin\nassign  bottom  A  =  ${g(}\nredo\nassign bottom t ?= \\$x\nassign bottom \"define\" \":::=\" t\n", Ok (on_line 1 (Apply (AddLine Bottom (NewRule (codes "$(p #) a&b") Double []))) ∷ on_line 2 Begin ∷ on_line 3 (Apply (AddLine Bottom (NewAssign (codes "A") Recursive (codes "${g(}")))) ∷ on_line 4 Redo ∷ on_line 5 (Apply (AddLine Bottom (NewAssign (codes "t") Conditional (codes "\\$x")))) ∷ on_line 6 (Apply (AddLine Bottom (NewAssign (codes "define") Immediate (codes "t")))) ∷ [])) ∷  -- random-357
    (codes "set A b\nbegin\nappend A \"t $(f {)\"\n set A \"%.c\"\n\"append\" \"A\" :\nundo\n recipe-set t 2 cÿ\n nth 4294967295 rule \"after-var\" A \"$(f {)\" \"::\" \"$x $(q:;=|)\"\n", Ok (on_line 1 (Apply (ChangeValue (One None) (codes "A") (edits.Set (codes "b")))) ∷ on_line 2 Begin ∷ on_line 3 (Apply (ChangeValue (One None) (codes "A") (edits.Append (codes "t $(f {)")))) ∷ on_line 4 (Apply (ChangeValue (One None) (codes "A") (edits.Set (codes "%.c")))) ∷ on_line 5 (Apply (ChangeValue (One None) (codes "A") (edits.Append (codes ":")))) ∷ on_line 6 Undo ∷ on_line 7 (Apply (SetRecipe None (codes "t") (ByNumber 2) (codes "cÿ"))) ∷ on_line 8 (Apply (AddLine (AfterVar (Some 4294967295) (codes "A")) (NewRule (codes "$(f {)") Double (codes "$x $(q:;=|)")))) ∷ [])) ∷  -- random-358
    (codes "set\t.RECIPEPREFIX\t${c}\ndepend \"%.o\" \"$(f {)\"\nundo\nend\nredo\nrecipe-set ${c} 001 \"$(\"\nrecipe-set et 2 a\\\n\"nth\" 000 recipe-set ${c} \"4294967295\" \"\"\nrule \"after-var\" .RECIPEPREFIX \"\" :: \"\"\nunrule  et\nassign after-var CC X += \"$(q:;=|) :\"\nredo", Ok (on_line 1 (Apply (ChangeValue (One None) (codes ".RECIPEPREFIX") (edits.Set (codes "${c}")))) ∷ on_line 2 (Apply (ChangePrereqs None (codes "%.o") (AddPrereq false (codes "$(f {)")))) ∷ on_line 3 Undo ∷ on_line 4 End ∷ on_line 5 Redo ∷ on_line 6 (Apply (SetRecipe None (codes "${c}") (ByNumber 1) (codes "$("))) ∷ on_line 7 (Apply (SetRecipe None (codes "et") (ByNumber 2) (codes "a\\"))) ∷ on_line 8 (Apply (SetRecipe (Some 0) (codes "${c}") (ByNumber 4294967295) [])) ∷ on_line 9 (Apply (AddLine (AfterVar None (codes ".RECIPEPREFIX")) (NewRule [] Double []))) ∷ on_line 10 (Apply (RemoveLines (OfRule None (codes "et")))) ∷ on_line 11 (Apply (AddLine (AfterVar None (codes "CC")) (NewAssign (codes "X") Append (codes "$(q:;=|) :")))) ∷ on_line 12 Redo ∷ [])) ∷  -- random-359
    (codes "redo\nunset define\nrule  bottom  \".PHONY\"  :  \"\"\nredo\nrecipe-set \".PHONY\" 4294967295 \"\tb\"\n\"rule\" before-rule \".PHONY\" a&b : \"-include2 $(s\\\\)\"\n\"rename\" a&b .PHONY\nassign bottom Y ::= \"\\\\# $(q:;=|)\"\n\"rename\" $(s\\) \"${g(}\"\nundepend a&b -include2\nset\tY\t\"${c}\"\ndepend-order a&b \"c\"\n", Ok (on_line 1 Redo ∷ on_line 2 (Apply (RemoveLines (OfAssign None (codes "define")))) ∷ on_line 3 (Apply (AddLine Bottom (NewRule (codes ".PHONY") Single []))) ∷ on_line 4 Redo ∷ on_line 5 (Apply (SetRecipe None (codes ".PHONY") (ByNumber 4294967295) (codes "\tb"))) ∷ on_line 6 (Apply (AddLine (BeforeRule None (codes ".PHONY")) (NewRule (codes "a&b") Single (codes "-include2 $(s\\)")))) ∷ on_line 7 (Apply (RenameTarget (codes "a&b") (codes ".PHONY"))) ∷ on_line 8 (Apply (AddLine Bottom (NewAssign (codes "Y") PosixSimple (codes "\\# $(q:;=|)")))) ∷ on_line 9 (Apply (RenameTarget (codes "$(s\\)") (codes "${g(}"))) ∷ on_line 10 (Apply (ChangePrereqs None (codes "a&b") (RemovePrereq (codes "-include2")))) ∷ on_line 11 (Apply (ChangeValue (One None) (codes "Y") (edits.Set (codes "${c}")))) ∷ on_line 12 (Apply (ChangePrereqs None (codes "a&b") (AddPrereq true (codes "c")))) ∷ [])) ∷  -- random-360
    (codes "recipe $(q:;=|) \"y # z\"\nrecipe t \"q:=1\"\n assign  before-rule  t  >q  \"=\"  \\$x\nundepend  \"$(f {)\"  t\nundo\nrename t $(s\\)\nunrule a", Ok (on_line 1 (Apply (AddRecipe None (codes "$(q:;=|)") Last (codes "y # z"))) ∷ on_line 2 (Apply (AddRecipe None (codes "t") Last (codes "q:=1"))) ∷ on_line 3 (Apply (AddLine (BeforeRule None (codes "t")) (NewAssign (codes ">q") Recursive (codes "\\$x")))) ∷ on_line 4 (Apply (ChangePrereqs None (codes "$(f {)") (RemovePrereq (codes "t")))) ∷ on_line 5 Undo ∷ on_line 6 (Apply (RenameTarget (codes "t") (codes "$(s\\)"))) ∷ on_line 7 (Apply (RemoveLines (OfRule None (codes "a")))) ∷ [])) ∷  -- random-361
    (codes "nth \"4294967295\" recipe .PHONY \"\tb\"\nrule  before-rule  .PHONY  \"\"  ::  \"\"\n set -x_9 \"\"\nend\n\"recipe-set\" .PHONY \"2\" x\n\"recipe\" .PHONY \" a\"\n depend-order \".PHONY\" \"a\\\\ b\"\ndepend-order .PHONY \"|d\"\nrecipe-del \".PHONY\" 1\n", Ok (on_line 1 (Apply (AddRecipe (Some 4294967295) (codes ".PHONY") Last (codes "\tb"))) ∷ on_line 2 (Apply (AddLine (BeforeRule None (codes ".PHONY")) (NewRule [] Double []))) ∷ on_line 3 (Apply (ChangeValue (One None) (codes "-x_9") (edits.Set []))) ∷ on_line 4 End ∷ on_line 5 (Apply (SetRecipe None (codes ".PHONY") (ByNumber 2) (codes "x"))) ∷ on_line 6 (Apply (AddRecipe None (codes ".PHONY") Last (codes " a"))) ∷ on_line 7 (Apply (ChangePrereqs None (codes ".PHONY") (AddPrereq true (codes "a\\ b")))) ∷ on_line 8 (Apply (ChangePrereqs None (codes ".PHONY") (AddPrereq true (codes "|d")))) ∷ on_line 9 (Apply (RemoveLines (OfRecipe None (codes ".PHONY") (ByNumber 1)))) ∷ [])) ∷  -- random-362
    (codes "rule bottom a&b :: \"\"\nrename a&b \"$(f {)\"\nbegin\nend\ncancel\nrecipe-set \"$(f {)\" 001 q:=1\n", Ok (on_line 1 (Apply (AddLine Bottom (NewRule (codes "a&b") Double []))) ∷ on_line 2 (Apply (RenameTarget (codes "a&b") (codes "$(f {)"))) ∷ on_line 3 Begin ∷ on_line 4 End ∷ on_line 5 Cancel ∷ on_line 6 (Apply (SetRecipe None (codes "$(f {)") (ByNumber 1) (codes "q:=1"))) ∷ [])) ∷  -- random-363
    (codes "nth 4294967295 undepend \"$(a b)\" $(s\\)\n\"rename\"\t\"$(a b)\"\tx.o\nnth 0 rule before-rule x.o \"$(a b) foo\" : \"$(q:;=|) $(u\"\n\"recipe\" x.o x\n", Ok (on_line 1 (Apply (ChangePrereqs (Some 4294967295) (codes "$(a b)") (RemovePrereq (codes "$(s\\)")))) ∷ on_line 2 (Apply (RenameTarget (codes "$(a b)") (codes "x.o"))) ∷ on_line 3 (Apply (AddLine (BeforeRule (Some 0) (codes "x.o")) (NewRule (codes "$(a b) foo") Single (codes "$(q:;=|) $(u")))) ∷ on_line 4 (Apply (AddRecipe None (codes "x.o") Last (codes "x"))) ∷ [])) ∷  -- random-364
    (codes "\"rule\" bottom ${c} :: \"\"\nredo\nnth\t0\tdepend-order\t${c}\ta\nnth 2 undepend ${c} ${c}\n", Ok (on_line 1 (Apply (AddLine Bottom (NewRule (codes "${c}") Double []))) ∷ on_line 2 Redo ∷ on_line 3 (Apply (ChangePrereqs (Some 0) (codes "${c}") (AddPrereq true (codes "a")))) ∷ on_line 4 (Apply (ChangePrereqs (Some 2) (codes "${c}") (RemovePrereq (codes "${c}")))) ∷ [])) ∷  -- random-366
    (codes "rule bottom \"$(p #)\" :: \"${c} ${g(}\"\n", Ok (on_line 1 (Apply (AddLine Bottom (NewRule (codes "$(p #)") Double (codes "${c} ${g(}")))) ∷ [])) ∷  -- random-367
    (codes "nth 0 set define \"\"\nset + $x\nnth  001  append  define  \\#\nset \"Y\" $x\nundo\nappend define \"b %.o\"\nappend define \"\"\nunset Y\nset define foo\nnth \"2\" unset define\n", Ok (on_line 1 (Apply (ChangeValue (One (Some 0)) (codes "define") (edits.Set []))) ∷ on_line 2 (Apply (ChangeValue (One None) (codes "+") (edits.Set (codes "$x")))) ∷ on_line 3 (Apply (ChangeValue (One (Some 1)) (codes "define") (edits.Append (codes "\\#")))) ∷ on_line 4 (Apply (ChangeValue (One None) (codes "Y") (edits.Set (codes "$x")))) ∷ on_line 5 Undo ∷ on_line 6 (Apply (ChangeValue (One None) (codes "define") (edits.Append (codes "b %.o")))) ∷ on_line 7 (Apply (ChangeValue (One None) (codes "define") (edits.Append []))) ∷ on_line 8 (Apply (RemoveLines (OfAssign None (codes "Y")))) ∷ on_line 9 (Apply (ChangeValue (One None) (codes "define") (edits.Set (codes "foo")))) ∷ on_line 10 (Apply (RemoveLines (OfAssign (Some 2) (codes "define")))) ∷ [])) ∷  -- random-368
    (codes "redo\r\nnth 001 \"assign\" after-var X endef != \"\"\r\nset define ${g(}\r\nnth 0 unset .RECIPEPREFIX\r\nredo\r\n", Ok (on_line 1 Redo ∷ on_line 2 (Apply (AddLine (AfterVar (Some 1) (codes "X")) (NewAssign (codes "endef") Shell []))) ∷ on_line 3 (Apply (ChangeValue (One None) (codes "define") (edits.Set (codes "${g(}")))) ∷ on_line 4 (Apply (RemoveLines (OfAssign (Some 0) (codes ".RECIPEPREFIX")))) ∷ on_line 5 Redo ∷ [])) ∷  -- random-369
    (codes "\"set\" A \"\"\r\nredo\r\n nth 2 undepend a&b \"foo\"\r\nbegin\r\nbegin\r\nrecipe-del a&b 4294967295\r\n", Ok (on_line 1 (Apply (ChangeValue (One None) (codes "A") (edits.Set []))) ∷ on_line 2 Redo ∷ on_line 3 (Apply (ChangePrereqs (Some 2) (codes "a&b") (RemovePrereq (codes "foo")))) ∷ on_line 4 Begin ∷ on_line 5 Begin ∷ on_line 6 (Apply (RemoveLines (OfRecipe None (codes "a&b") (ByNumber 4294967295)))) ∷ [])) ∷  -- random-371
    (codes "undepend \"$(a b)\" (\nundo\n\"unset\" .REPEPREFIX\nend\nrecipe-set -include2 000 a\0\nrule \"before-rule\" \"x.o\" \"${g(} c\" : \"$(p #) $(p #)\"\n\"rename\" ( $(s\\)\n", Ok (on_line 1 (Apply (ChangePrereqs None (codes "$(a b)") (RemovePrereq (codes "(")))) ∷ on_line 2 Undo ∷ on_line 3 (Apply (RemoveLines (OfAssign None (codes ".REPEPREFIX")))) ∷ on_line 4 End ∷ on_line 5 (Apply (SetRecipe None (codes "-include2") (ByNumber 0) (codes "a\0"))) ∷ on_line 6 (Apply (AddLine (BeforeRule None (codes "x.o")) (NewRule (codes "${g(} c") Single (codes "$(p #) $(p #)")))) ∷ on_line 7 (Apply (RenameTarget (codes "(") (codes "$(s\\)"))) ∷ [])) ∷  -- random-372
    (codes "nth 2 \"depend-order\" .PHONY -include2\n", Ok (on_line 1 (Apply (ChangePrereqs (Some 2) (codes ".PHONY") (AddPrereq true (codes "-include2")))) ∷ [])) ∷  -- random-373
    (codes "\"unrule\" \"$(p #)\"\n\"rule\" bottom \"$(a b)\" :: ${g(}\nrule bottom a&b : Ã©\n", Ok (on_line 1 (Apply (RemoveLines (OfRule None (codes "$(p #)")))) ∷ on_line 2 (Apply (AddLine Bottom (NewRule (codes "$(a b)") Double (codes "${g(}")))) ∷ on_line 3 (Apply (AddLine Bottom (NewRule (codes "a&b") Single (codes "Ã©")))) ∷ [])) ∷  -- random-374
    (codes "nth 4294967295 unrule $$\r\nnth 1 undepend \"$$\" $x\r\nset X \"$(p #)\"\r\n\"set\" .RECIPEPREFIX a&b\r\nbegin\r\nredo\r\nundepend x.o $$\r\n \"nth\" 0 \"rule\" \"before-var\" .RECIPEPREFIX $(u \"::\" \"$(f {) $(q:;=|)\"\r\nrecipe $$ \"\tb\"\r\nunset .RECIPEPREFIX\r\n", Ok (on_line 1 (Apply (RemoveLines (OfRule (Some 4294967295) (codes "$$")))) ∷ on_line 2 (Apply (ChangePrereqs (Some 1) (codes "$$") (RemovePrereq (codes "$x")))) ∷ on_line 3 (Apply (ChangeValue (One None) (codes "X") (edits.Set (codes "$(p #)")))) ∷ on_line 4 (Apply (ChangeValue (One None) (codes ".RECIPEPREFIX") (edits.Set (codes "a&b")))) ∷ on_line 5 Begin ∷ on_line 6 Redo ∷ on_line 7 (Apply (ChangePrereqs None (codes "x.o") (RemovePrereq (codes "$$")))) ∷ on_line 8 (Apply (AddLine (BeforeVar (Some 0) (codes ".RECIPEPREFIX")) (NewRule (codes "$(u") Double (codes "$(f {) $(q:;=|)")))) ∷ on_line 9 (Apply (AddRecipe None (codes "$$") Last (codes "\tb"))) ∷ on_line 10 (Apply (RemoveLines (OfAssign None (codes ".RECIPEPREFIX")))) ∷ [])) ∷  -- random-376
    (codes "undo\nrename ${g(} $$\nrecipe \"${c}\" define\n nth\t1\t\"append\"\tCC\t\"%.o ;\"\n\"assign\" \"bottom\" t1 \":=\" \"\"\nunset +\nundo\n\"unset\" +\nundo\nset CC a&b\nrule before-var CC t : \"b foo\"", Ok (on_line 1 Undo ∷ on_line 2 (Apply (RenameTarget (codes "${g(}") (codes "$$"))) ∷ on_line 3 (Apply (AddRecipe None (codes "${c}") Last (codes "define"))) ∷ on_line 4 (Apply (ChangeValue (One (Some 1)) (codes "CC") (edits.Append (codes "%.o ;")))) ∷ on_line 5 (Apply (AddLine Bottom (NewAssign (codes "t1") Simple []))) ∷ on_line 6 (Apply (RemoveLines (OfAssign None (codes "+")))) ∷ on_line 7 Undo ∷ on_line 8 (Apply (RemoveLines (OfAssign None (codes "+")))) ∷ on_line 9 Undo ∷ on_line 10 (Apply (ChangeValue (One None) (codes "CC") (edits.Set (codes "a&b")))) ∷ on_line 11 (Apply (AddLine (BeforeVar None (codes "CC")) (NewRule (codes "t") Single (codes "b foo")))) ∷ [])) ∷  -- random-379
    (codes " nth \"001\" unrule x.o\r\nunset  \"define\"\r\nappend t1 \\#\r\n", Ok (on_line 1 (Apply (RemoveLines (OfRule (Some 1) (codes "x.o")))) ∷ on_line 2 (Apply (RemoveLines (OfAssign None (codes "define")))) ∷ on_line 3 (Apply (ChangeValue (One None) (codes "t1") (edits.Append (codes "\\#")))) ∷ [])) ∷  -- random-380
    (codes "\"nth\" 000 append \">X$ \" =\ndepend foo \"$x\"\nset\t\">X$ \"\t\"$(q:;=|) ;\"\n\"assign\" \"bottom\" >q ?= \"foo\"\nunset\t\">X$ \"\n\"unrule\"\t%.c\n recipe-del \"$(p #)\" \"4294967295\"\n\"nth\" 2 recipe-set \"y\" 2 \"\tb\"\nrule\t\"bottom\"\t$(s\\)\t\"::\"\tb\n\"recipe\" $(s\\) a\\\nnth 002 unrule x.o\nset  \">X$ \"  ;", Ok (on_line 1 (Apply (ChangeValue (One (Some 0)) (codes ">X$ ") (edits.Append (codes "=")))) ∷ on_line 2 (Apply (ChangePrereqs None (codes "foo") (AddPrereq false (codes "$x")))) ∷ on_line 3 (Apply (ChangeValue (One None) (codes ">X$ ") (edits.Set (codes "$(q:;=|) ;")))) ∷ on_line 4 (Apply (AddLine Bottom (NewAssign (codes ">q") Conditional (codes "foo")))) ∷ on_line 5 (Apply (RemoveLines (OfAssign None (codes ">X$ ")))) ∷ on_line 6 (Apply (RemoveLines (OfRule None (codes "%.c")))) ∷ on_line 7 (Apply (RemoveLines (OfRecipe None (codes "$(p #)") (ByNumber 4294967295)))) ∷ on_line 8 (Apply (SetRecipe (Some 2) (codes "y") (ByNumber 2) (codes "\tb"))) ∷ on_line 9 (Apply (AddLine Bottom (NewRule (codes "$(s\\)") Double (codes "b")))) ∷ on_line 10 (Apply (AddRecipe None (codes "$(s\\)") Last (codes "a\\"))) ∷ on_line 11 (Apply (RemoveLines (OfRule (Some 2) (codes "x.o")))) ∷ on_line 12 (Apply (ChangeValue (One None) (codes ">X$ ") (edits.Set (codes ";")))) ∷ [])) ∷  -- random-381
    (codes "nth \"4294967295\" \"append\" >q \"a $(a b)\"\r\nend\r\n\"recipe-del\" foo 4294967295\r\ndepend\t\"a\"\t\"$$\"\r\n\"unrule\"  a\r\nrule before-var define \"-include2 c\" : \"$$\"\r\n", Ok (on_line 1 (Apply (ChangeValue (One (Some 4294967295)) (codes ">q") (edits.Append (codes "a $(a b)")))) ∷ on_line 2 End ∷ on_line 3 (Apply (RemoveLines (OfRecipe None (codes "foo") (ByNumber 4294967295)))) ∷ on_line 4 (Apply (ChangePrereqs None (codes "a") (AddPrereq false (codes "$$")))) ∷ on_line 5 (Apply (RemoveLines (OfRule None (codes "a")))) ∷ on_line 6 (Apply (AddLine (BeforeVar None (codes "define")) (NewRule (codes "-include2 c") Single (codes "$$")))) ∷ [])) ∷  -- random-382
    (codes "redo\n nth 001 \"assign\" before-rule $= \"define\" \"?=\" $$\nnth 000 set a.b \"$(q:;=|) ${g(}\"\nassign bottom -x_9 ?= \"\"\n unset  .RECIPEPREFIX\nrule bottom \"t $$\" :: \"$(a b)\"\ndepend $$ override", Ok (on_line 1 Redo ∷ on_line 2 (Apply (AddLine (BeforeRule (Some 1) (codes "$=")) (NewAssign (codes "define") Conditional (codes "$$")))) ∷ on_line 3 (Apply (ChangeValue (One (Some 0)) (codes "a.b") (edits.Set (codes "$(q:;=|) ${g(}")))) ∷ on_line 4 (Apply (AddLine Bottom (NewAssign (codes "-x_9") Conditional []))) ∷ on_line 5 (Apply (RemoveLines (OfAssign None (codes ".RECIPEPREFIX")))) ∷ on_line 6 (Apply (AddLine Bottom (NewRule (codes "t $$") Double (codes "$(a b)")))) ∷ on_line 7 (Apply (ChangePrereqs None (codes "$$") (AddPrereq false (codes "override")))) ∷ [])) ∷  -- random-383
    (codes "\"nth\"  4294967295  \"undepend\"  \"x.o\"  foo\nend\n rule after-var t1 \"$(a b)\" : \"b ${g(}\"", Ok (on_line 1 (Apply (ChangePrereqs (Some 4294967295) (codes "x.o") (RemovePrereq (codes "foo")))) ∷ on_line 2 End ∷ on_line 3 (Apply (AddLine (AfterVar None (codes "t1")) (NewRule (codes "$(a b)") Single (codes "b ${g(}")))) ∷ [])) ∷  -- random-384
    (codes "undepend $(s\\) $x\nundo\nnth 0 set \"$(X)\" \\#\nunrule \"a\"\nundo\nassign \"before-rule\" c t1 = \"$(p #) |\"\nappend t1 \"$(a b) $(q:;=|)\"\nassign  bottom  Y  ::=  .PHONY\n\"set\" \"endef\" c\n", Ok (on_line 1 (Apply (ChangePrereqs None (codes "$(s\\)") (RemovePrereq (codes "$x")))) ∷ on_line 2 Undo ∷ on_line 3 (Apply (ChangeValue (One (Some 0)) (codes "$(X)") (edits.Set (codes "\\#")))) ∷ on_line 4 (Apply (RemoveLines (OfRule None (codes "a")))) ∷ on_line 5 Undo ∷ on_line 6 (Apply (AddLine (BeforeRule None (codes "c")) (NewAssign (codes "t1") Recursive (codes "$(p #) |")))) ∷ on_line 7 (Apply (ChangeValue (One None) (codes "t1") (edits.Append (codes "$(a b) $(q:;=|)")))) ∷ on_line 8 (Apply (AddLine Bottom (NewAssign (codes "Y") PosixSimple (codes ".PHONY")))) ∷ on_line 9 (Apply (ChangeValue (One None) (codes "endef") (edits.Set (codes "c")))) ∷ [])) ∷  -- random-385
    (codes "nth 001 \"unrule\" a&b\nassign\tbottom\toverride\t+=\t\"\"\n assign bottom ifdef != \"\"\nassign \"bottom\" Y ?= \"%.o \\\\#\"\nrule bottom ${g(} :: \"\"", Ok (on_line 1 (Apply (RemoveLines (OfRule (Some 1) (codes "a&b")))) ∷ on_line 2 (Apply (AddLine Bottom (NewAssign (codes "override") Append []))) ∷ on_line 3 (Apply (AddLine Bottom (NewAssign (codes "ifdef") Shell []))) ∷ on_line 4 (Apply (AddLine Bottom (NewAssign (codes "Y") Conditional (codes "%.o \\#")))) ∷ on_line 5 (Apply (AddLine Bottom (NewRule (codes "${g(}") Double []))) ∷ [])) ∷  -- random-386
    []

answers_7 : map (λ row. read_script row.0) rows_7 ≡ map (λ row. row.1) rows_7
unfolding line_len lines_from
answers_7 = refl

abbrev rows_8 : List (List ℕ × Result (List Step) ℕ)
rows_8 =
    (codes "end\nundo\nredo\n\"assign\" bottom e != \"$(a b) 2 3\"\nrule \"bottom\" $$ : \"\"\n", Ok (on_line 1 End ∷ on_line 2 Undo ∷ on_line 3 Redo ∷ on_line 4 (Apply (AddLine Bottom (NewAssign (codes "e") Shell (codes "$(a b) 2 3")))) ∷ on_line 5 (Apply (AddLine Bottom (NewRule (codes "$$") Single []))) ∷ [])) ∷  -- random-387
    (codes "redo\nunset\tY\n\"rename\"\t\"$(f {)\"\t\"-include2\"\nappend .RECIPEPREFIX \"\"\n\"recipe-set\" \"-include2\" 002 \"cÿ\"\nassign \"after-var\" X$: \"A\" := $#\nnth 000 undepend -include2 -include2\nunset \".RECIPEPREFIX\"\n", Ok (on_line 1 Redo ∷ on_line 2 (Apply (RemoveLines (OfAssign None (codes "Y")))) ∷ on_line 3 (Apply (RenameTarget (codes "$(f {)") (codes "-include2"))) ∷ on_line 4 (Apply (ChangeValue (One None) (codes ".RECIPEPREFIX") (edits.Append []))) ∷ on_line 5 (Apply (SetRecipe None (codes "-include2") (ByNumber 2) (codes "cÿ"))) ∷ on_line 6 (Apply (AddLine (AfterVar None (codes "X$:")) (NewAssign (codes "A") Simple (codes "$#")))) ∷ on_line 7 (Apply (ChangePrereqs (Some 0) (codes "-include2") (RemovePrereq (codes "-include2")))) ∷ on_line 8 (Apply (RemoveLines (OfAssign None (codes ".RECIPEPREFIX")))) ∷ [])) ∷  -- random-388
    (codes "rename a $(q:;=|)\nSET X 1\n assign after-var .RECIPEPREFIX \"X\" ?= \"$(f {)\"\nrename \"t\" t\nrecipe-del t \"1\"\nrecipe-del t 4294967295\n\"depend\" t b\n", Err 2) ∷  -- random-389
    (codes "undo\nrename x.o \"$(f {)\"\nnth \"2\" unrule y\n", Ok (on_line 1 Undo ∷ on_line 2 (Apply (RenameTarget (codes "x.o") (codes "$(f {)"))) ∷ on_line 3 (Apply (RemoveLines (OfRule (Some 2) (codes "y")))) ∷ [])) ∷  -- random-390
    (codes " rule after-var Y -include2 : \"\"\r\nunset a.b\r\nrule  bottom  \"c $(q:;=|)\"  ::  c\r\nundo\r\nrule before-var \"define\" \"foo\" :: \"$(a b)\"\r\n\"assign\" bottom t1 += c\r\n\"rule\" after-var t1 foo :: \"%.o a&b\"", Ok (on_line 1 (Apply (AddLine (AfterVar None (codes "Y")) (NewRule (codes "-include2") Single []))) ∷ on_line 2 (Apply (RemoveLines (OfAssign None (codes "a.b")))) ∷ on_line 3 (Apply (AddLine Bottom (NewRule (codes "c $(q:;=|)") Double (codes "c")))) ∷ on_line 4 Undo ∷ on_line 5 (Apply (AddLine (BeforeVar None (codes "define")) (NewRule (codes "foo") Double (codes "$(a b)")))) ∷ on_line 6 (Apply (AddLine Bottom (NewAssign (codes "t1") Append (codes "c")))) ∷ on_line 7 (Apply (AddLine (AfterVar None (codes "t1")) (NewRule (codes "foo") Double (codes "%.o a&b")))) ∷ [])) ∷  -- random-391
    (codes "cancel\ncancel\nunrule a\n rule after-var ifdef \"\" :: \"foo $(a b)\"\nbegin\nset \"-x_9\" \"\"\nundo\n\"unset\" Y\nundo\n", Ok (on_line 1 Cancel ∷ on_line 2 Cancel ∷ on_line 3 (Apply (RemoveLines (OfRule None (codes "a")))) ∷ on_line 4 (Apply (AddLine (AfterVar None (codes "ifdef")) (NewRule [] Double (codes "foo $(a b)")))) ∷ on_line 5 Begin ∷ on_line 6 (Apply (ChangeValue (One None) (codes "-x_9") (edits.Set []))) ∷ on_line 7 Undo ∷ on_line 8 (Apply (RemoveLines (OfAssign None (codes "Y")))) ∷ on_line 9 Undo ∷ [])) ∷  -- random-392
    (codes "\"set\" \".RECIPEPREFIX\" \"t $$\"\r\nassign before-var Y! \"A\" := \"foo ${g(}\"\r\nrule before-var \".RECIPEPREFIX\" \"\" : \"\"\r\n", Ok (on_line 1 (Apply (ChangeValue (One None) (codes ".RECIPEPREFIX") (edits.Set (codes "t $$")))) ∷ on_line 2 (Apply (AddLine (BeforeVar None (codes "Y!")) (NewAssign (codes "A") Simple (codes "foo ${g(}")))) ∷ on_line 3 (Apply (AddLine (BeforeVar None (codes ".RECIPEPREFIX")) (NewRule [] Single []))) ∷ [])) ∷  -- random-393
    (codes "depend-order  a  ${g(}\nassign\tafter-var\t\"a.b\"\t-x_9\t:=\t%.c\nassign bottom A != \"%.o\"\nundo\nredo\nassign bottom >q ::= \"\"\n\"assign\"  before-var  A  \"X\"  ::=  \"\"\nbegin\nrule\tbefore-var\ta.b\t\"$\t\"\t:\t\".PHONY .PHONY\"\nnth 1 \"unset\" X\n set A \"\"\n", Ok (on_line 1 (Apply (ChangePrereqs None (codes "a") (AddPrereq true (codes "${g(}")))) ∷ on_line 2 (Apply (AddLine (AfterVar None (codes "a.b")) (NewAssign (codes "-x_9") Simple (codes "%.c")))) ∷ on_line 3 (Apply (AddLine Bottom (NewAssign (codes "A") Shell (codes "%.o")))) ∷ on_line 4 Undo ∷ on_line 5 Redo ∷ on_line 6 (Apply (AddLine Bottom (NewAssign (codes ">q") PosixSimple []))) ∷ on_line 7 (Apply (AddLine (BeforeVar None (codes "A")) (NewAssign (codes "X") PosixSimple []))) ∷ on_line 8 Begin ∷ on_line 9 (Apply (AddLine (BeforeVar None (codes "a.b")) (NewRule (codes "$\t") Single (codes ".PHONY .PHONY")))) ∷ on_line 10 (Apply (RemoveLines (OfAssign (Some 1) (codes "X")))) ∷ on_line 11 (Apply (ChangeValue (One None) (codes "A") (edits.Set []))) ∷ [])) ∷  -- random-395
    (codes "\"nth\" 0 recipe a \"y # z\"\nrecipe-set \"$(p #)\" 0 \"e f \\\\ g\"\nrecipe a \"\tb\"\n\"depend-order\" a $(s\\)\nrule \"bottom\" \"\" \":\" \"$(p #) -include2\"\nundo\nredo\nbegin\n\"unset\"\tt1\nassign before-var -x_9 ifdef := \"\"\nunset ifdef", Ok (on_line 1 (Apply (AddRecipe (Some 0) (codes "a") Last (codes "y # z"))) ∷ on_line 2 (Apply (SetRecipe None (codes "$(p #)") (ByNumber 0) (codes "e f \\ g"))) ∷ on_line 3 (Apply (AddRecipe None (codes "a") Last (codes "\tb"))) ∷ on_line 4 (Apply (ChangePrereqs None (codes "a") (AddPrereq true (codes "$(s\\)")))) ∷ on_line 5 (Apply (AddLine Bottom (NewRule [] Single (codes "$(p #) -include2")))) ∷ on_line 6 Undo ∷ on_line 7 Redo ∷ on_line 8 Begin ∷ on_line 9 (Apply (RemoveLines (OfAssign None (codes "t1")))) ∷ on_line 10 (Apply (AddLine (BeforeVar None (codes "-x_9")) (NewAssign (codes "ifdef") Simple []))) ∷ on_line 11 (Apply (RemoveLines (OfAssign None (codes "ifdef")))) ∷ [])) ∷  -- random-396
    (codes "rename .PHONY \"$(f {)\"\r\nredo\r\n\"rename\" \"$(f {)\" %.c\r\n append A c\r\nrename %.c \"$(f {)\"\r\nundo\r\nrename\t\"$(s\\\\)\"\ta\r\nnth 1 depend %.c ${c}", Ok (on_line 1 (Apply (RenameTarget (codes ".PHONY") (codes "$(f {)"))) ∷ on_line 2 Redo ∷ on_line 3 (Apply (RenameTarget (codes "$(f {)") (codes "%.c"))) ∷ on_line 4 (Apply (ChangeValue (One None) (codes "A") (edits.Append (codes "c")))) ∷ on_line 5 (Apply (RenameTarget (codes "%.c") (codes "$(f {)"))) ∷ on_line 6 Undo ∷ on_line 7 (Apply (RenameTarget (codes "$(s\\)") (codes "a"))) ∷ on_line 8 (Apply (ChangePrereqs (Some 1) (codes "%.c") (AddPrereq false (codes "${c}")))) ∷ [])) ∷  -- random-397
    (codes "undo\n\"set\" .RECIPEPREFIX $x\nrule before-var .RECIPEPREFIX \"$(f {)\" : %.o\nnth 002 undepend t \"t\"\nend\n\"recipe-del\"\t\"$\t\"\t2\nunrule t\nrule before-var .RECIPEPREFIX %.c :: \"\"\nrule bottom \"$(p #)\" : \"%.o ${g(}\"\n nth 000 undepend \"$(p #)\" \"${g(}\"\nnth \"1\" unrule \"$(p #)\"\n", Ok (on_line 1 Undo ∷ on_line 2 (Apply (ChangeValue (One None) (codes ".RECIPEPREFIX") (edits.Set (codes "$x")))) ∷ on_line 3 (Apply (AddLine (BeforeVar None (codes ".RECIPEPREFIX")) (NewRule (codes "$(f {)") Single (codes "%.o")))) ∷ on_line 4 (Apply (ChangePrereqs (Some 2) (codes "t") (RemovePrereq (codes "t")))) ∷ on_line 5 End ∷ on_line 6 (Apply (RemoveLines (OfRecipe None (codes "$\t") (ByNumber 2)))) ∷ on_line 7 (Apply (RemoveLines (OfRule None (codes "t")))) ∷ on_line 8 (Apply (AddLine (BeforeVar None (codes ".RECIPEPREFIX")) (NewRule (codes "%.c") Double []))) ∷ on_line 9 (Apply (AddLine Bottom (NewRule (codes "$(p #)") Single (codes "%.o ${g(}")))) ∷ on_line 10 (Apply (ChangePrereqs (Some 0) (codes "$(p #)") (RemovePrereq (codes "${g(}")))) ∷ on_line 11 (Apply (RemoveLines (OfRule (Some 1) (codes "$(p #)")))) ∷ [])) ∷  -- random-398
    (codes "recipe-set \"$(q:;=|)\" \"2\" cÿ\r\n\"nth\"\t0\trecipe\t$(q:;=|)\tq:=1\r\n nth 4294967295 depend \"$(a b)\" c\r\n\"nth\" \"2\" \"recipe-del\" \"$(a b)\" 4294967295\r\nassign before-var .RECIPEPREFIX -x_9 ?= \"a\"\r\n undepend $$ $(s\\)\r\n\"nth\"\t0\t\"rule\"\t\"after-var\"\t.RECIPEPREFIX\t\"$$\"\t:\t\"\"\r\nunset\t\".RECIPEPREFIX\"\r\n", Ok (on_line 1 (Apply (SetRecipe None (codes "$(q:;=|)") (ByNumber 2) (codes "cÿ"))) ∷ on_line 2 (Apply (AddRecipe (Some 0) (codes "$(q:;=|)") Last (codes "q:=1"))) ∷ on_line 3 (Apply (ChangePrereqs (Some 4294967295) (codes "$(a b)") (AddPrereq false (codes "c")))) ∷ on_line 4 (Apply (RemoveLines (OfRecipe (Some 2) (codes "$(a b)") (ByNumber 4294967295)))) ∷ on_line 5 (Apply (AddLine (BeforeVar None (codes ".RECIPEPREFIX")) (NewAssign (codes "-x_9") Conditional (codes "a")))) ∷ on_line 6 (Apply (ChangePrereqs None (codes "$$") (RemovePrereq (codes "$(s\\)")))) ∷ on_line 7 (Apply (AddLine (AfterVar (Some 0) (codes ".RECIPEPREFIX")) (NewRule (codes "$$") Single []))) ∷ on_line 8 (Apply (RemoveLines (OfAssign None (codes ".RECIPEPREFIX")))) ∷ [])) ∷  -- random-400
    (codes "append X$: =\n nth 0 \"set\" define \\#\nrule before-var X$: \"\" : \"\"\nnth \"4294967295\" set \"X$:\" \"$(p #) c\"\nend\n\"nth\" 0 unset X\nrule bottom \"$x t\" \":\" $(s\\)\nundepend \"t\" \"$(s\\\\)\"\ndepend-order \"t\" a\n\"unrule\" $x\nundo\nrename $$ \"${c}\"", Ok (on_line 1 (Apply (ChangeValue (One None) (codes "X$:") (edits.Append (codes "=")))) ∷ on_line 2 (Apply (ChangeValue (One (Some 0)) (codes "define") (edits.Set (codes "\\#")))) ∷ on_line 3 (Apply (AddLine (BeforeVar None (codes "X$:")) (NewRule [] Single []))) ∷ on_line 4 (Apply (ChangeValue (One (Some 4294967295)) (codes "X$:") (edits.Set (codes "$(p #) c")))) ∷ on_line 5 End ∷ on_line 6 (Apply (RemoveLines (OfAssign (Some 0) (codes "X")))) ∷ on_line 7 (Apply (AddLine Bottom (NewRule (codes "$x t") Single (codes "$(s\\)")))) ∷ on_line 8 (Apply (ChangePrereqs None (codes "t") (RemovePrereq (codes "$(s\\)")))) ∷ on_line 9 (Apply (ChangePrereqs None (codes "t") (AddPrereq true (codes "a")))) ∷ on_line 10 (Apply (RemoveLines (OfRule None (codes "$x")))) ∷ on_line 11 Undo ∷ on_line 12 (Apply (RenameTarget (codes "$$") (codes "${c}"))) ∷ [])) ∷  -- random-401
    (codes "append ifdef \"1 2 3\"\nnth 4294967295 recipe-del x.o 1\nrecipe-del y 1\nassign before-var t1 X != \"\"\n assign before-var t1 -x_9 :::= \"\"\nnth 000 assign after-var ifdef t1 := \"\"\ndepend x.o .PHONY\nredo\n \"recipe\" x.o \" a\"\nundo\n\"depend-order\"  \"y\"  $$", Ok (on_line 1 (Apply (ChangeValue (One None) (codes "ifdef") (edits.Append (codes "1 2 3")))) ∷ on_line 2 (Apply (RemoveLines (OfRecipe (Some 4294967295) (codes "x.o") (ByNumber 1)))) ∷ on_line 3 (Apply (RemoveLines (OfRecipe None (codes "y") (ByNumber 1)))) ∷ on_line 4 (Apply (AddLine (BeforeVar None (codes "t1")) (NewAssign (codes "X") Shell []))) ∷ on_line 5 (Apply (AddLine (BeforeVar None (codes "t1")) (NewAssign (codes "-x_9") Immediate []))) ∷ on_line 6 (Apply (AddLine (AfterVar (Some 0) (codes "ifdef")) (NewAssign (codes "t1") Simple []))) ∷ on_line 7 (Apply (ChangePrereqs None (codes "x.o") (AddPrereq false (codes ".PHONY")))) ∷ on_line 8 Redo ∷ on_line 9 (Apply (AddRecipe None (codes "x.o") Last (codes " a"))) ∷ on_line 10 Undo ∷ on_line 11 (Apply (ChangePrereqs None (codes "y") (AddPrereq true (codes "$$")))) ∷ [])) ∷  -- random-402
    (codes "recipe\t-include2\t\" a\"\r\nbegin\r\ndepend-order \"-include2\" \"t\"\r\n \"undepend\"\t-include2\tt", Ok (on_line 1 (Apply (AddRecipe None (codes "-include2") Last (codes " a"))) ∷ on_line 2 Begin ∷ on_line 3 (Apply (ChangePrereqs None (codes "-include2") (AddPrereq true (codes "t")))) ∷ on_line 4 (Apply (ChangePrereqs None (codes "-include2") (RemovePrereq (codes "t")))) ∷ [])) ∷  -- random-403
    (codes "end\nassign bottom define :::= \"\"\n nth\t0\tunset\tdefine\nappend  \"define\"  \\$x\nnth  2  unset  .RECIPEPREFIX\nundo\nunrule %.c\nappend \"define\" \"\"\nnth  \"000\"  unset  t1\nrule\tafter-var\t\".RECIPEPREFIX\"\t\"\"\t::\tb\n", Ok (on_line 1 End ∷ on_line 2 (Apply (AddLine Bottom (NewAssign (codes "define") Immediate []))) ∷ on_line 3 (Apply (RemoveLines (OfAssign (Some 0) (codes "define")))) ∷ on_line 4 (Apply (ChangeValue (One None) (codes "define") (edits.Append (codes "\\$x")))) ∷ on_line 5 (Apply (RemoveLines (OfAssign (Some 2) (codes ".RECIPEPREFIX")))) ∷ on_line 6 Undo ∷ on_line 7 (Apply (RemoveLines (OfRule None (codes "%.c")))) ∷ on_line 8 (Apply (ChangeValue (One None) (codes "define") (edits.Append []))) ∷ on_line 9 (Apply (RemoveLines (OfAssign (Some 0) (codes "t1")))) ∷ on_line 10 (Apply (AddLine (AfterVar None (codes ".RECIPEPREFIX")) (NewRule [] Double (codes "b")))) ∷ [])) ∷  -- random-404
    (codes "depend-order a&b $(q:;=|)\nassign bottom CC = \"\"\nrecipe a&b \" a\"\nbegin\nredo\nnth 1 assign \"before-rule\" a&b \"Y\" :::= $(s\\)\nbegin\n set X =\nnth 0 undepend x.o $x\ndepend a&b $x\n", Ok (on_line 1 (Apply (ChangePrereqs None (codes "a&b") (AddPrereq true (codes "$(q:;=|)")))) ∷ on_line 2 (Apply (AddLine Bottom (NewAssign (codes "CC") Recursive []))) ∷ on_line 3 (Apply (AddRecipe None (codes "a&b") Last (codes " a"))) ∷ on_line 4 Begin ∷ on_line 5 Redo ∷ on_line 6 (Apply (AddLine (BeforeRule (Some 1) (codes "a&b")) (NewAssign (codes "Y") Immediate (codes "$(s\\)")))) ∷ on_line 7 Begin ∷ on_line 8 (Apply (ChangeValue (One None) (codes "X") (edits.Set (codes "=")))) ∷ on_line 9 (Apply (ChangePrereqs (Some 0) (codes "x.o") (RemovePrereq (codes "$x")))) ∷ on_line 10 (Apply (ChangePrereqs None (codes "a&b") (AddPrereq false (codes "$x")))) ∷ [])) ∷  -- random-405
    (codes "undo\r\nrecipe-del\t%.o\t1\r\nunrule  \"-include2\"\r\nset \\#x \"\"\r\n", Ok (on_line 1 Undo ∷ on_line 2 (Apply (RemoveLines (OfRecipe None (codes "%.o") (ByNumber 1)))) ∷ on_line 3 (Apply (RemoveLines (OfRule None (codes "-include2")))) ∷ on_line 4 (Apply (ChangeValue (One None) (codes "\\#x") (edits.Set []))) ∷ [])) ∷  -- random-406
    (codes "redo\r\nset \"end\" |\r\ndepend-order\t%.o\t%.o\r\nend\r\ndepend-order \"%.o\" $$\r\nset \"end\" \"\"\r\nnth 4294967295 recipe \"%.o\" \"e f \\\\ g\"\r\nundo\r\nnth\t2\trecipe-del\t%.o\t0\r\n", Ok (on_line 1 Redo ∷ on_line 2 (Apply (ChangeValue (One None) (codes "end") (edits.Set (codes "|")))) ∷ on_line 3 (Apply (ChangePrereqs None (codes "%.o") (AddPrereq true (codes "%.o")))) ∷ on_line 4 End ∷ on_line 5 (Apply (ChangePrereqs None (codes "%.o") (AddPrereq true (codes "$$")))) ∷ on_line 6 (Apply (ChangeValue (One None) (codes "end") (edits.Set []))) ∷ on_line 7 (Apply (AddRecipe (Some 4294967295) (codes "%.o") Last (codes "e f \\ g"))) ∷ on_line 8 Undo ∷ on_line 9 (Apply (RemoveLines (OfRecipe (Some 2) (codes "%.o") (ByNumber 0)))) ∷ [])) ∷  -- random-407
    (codes "cancel\nassign \"after-var\" eZ t1 ?= \"\"\nassign \"before-var\" \\#x e := \":\"\nnth \"000\" append t1 t\n", Ok (on_line 1 Cancel ∷ on_line 2 (Apply (AddLine (AfterVar None (codes "eZ")) (NewAssign (codes "t1") Conditional []))) ∷ on_line 3 (Apply (AddLine (BeforeVar None (codes "\\#x")) (NewAssign (codes "e") Simple (codes ":")))) ∷ on_line 4 (Apply (ChangeValue (One (Some 0)) (codes "t1") (edits.Append (codes "t")))) ∷ [])) ∷  -- random-409
    (codes "recipe-set a&b \"4294967295\" x\n", Ok (on_line 1 (Apply (SetRecipe None (codes "a&b") (ByNumber 4294967295) (codes "x"))) ∷ [])) ∷  -- random-410
    (codes "unrule \"b\"\nunset define\nnth 0 undepend b \".PHONY\"\nnth  2  unrule  .PHONY\nredo\nrecipe-del .PHONY 1\nundo\nnth 1 recipe .PHONY \"t\"\n\"depend-order\" b -include2\nrename %.o -include2\nnth 2 recipe .PHONY $(\nrename \"${g(}\" %.c\n", Ok (on_line 1 (Apply (RemoveLines (OfRule None (codes "b")))) ∷ on_line 2 (Apply (RemoveLines (OfAssign None (codes "define")))) ∷ on_line 3 (Apply (ChangePrereqs (Some 0) (codes "b") (RemovePrereq (codes ".PHONY")))) ∷ on_line 4 (Apply (RemoveLines (OfRule (Some 2) (codes ".PHONY")))) ∷ on_line 5 Redo ∷ on_line 6 (Apply (RemoveLines (OfRecipe None (codes ".PHONY") (ByNumber 1)))) ∷ on_line 7 Undo ∷ on_line 8 (Apply (AddRecipe (Some 1) (codes ".PHONY") Last (codes "t"))) ∷ on_line 9 (Apply (ChangePrereqs None (codes "b") (AddPrereq true (codes "-include2")))) ∷ on_line 10 (Apply (RenameTarget (codes "%.o") (codes "-include2"))) ∷ on_line 11 (Apply (AddRecipe (Some 2) (codes ".PHONY") Last (codes "$("))) ∷ on_line 12 (Apply (RenameTarget (codes "${g(}") (codes "%.c"))) ∷ [])) ∷  -- random-411
    (codes "begin\nrule \"bottom\" \"\" :: \"a\"\nrule bottom \"$(a b)\" \"::\" \"\"\n\"rename\"  \"$(a b)\"  \"$(p #)\"\nend\ncancel\nnth 0 \"rule\" before-rule \"$(p #)\" \"\" \"::\" x.o\nredo\nnth 001 recipe-set \"$(p #)\" 1 q:=1\n \"undepend\" \"$(p #)\" ${g(}\n \"undepend\" \"$(p #)\" t\nundepend \"$(p #)\" t\n", Ok (on_line 1 Begin ∷ on_line 2 (Apply (AddLine Bottom (NewRule [] Double (codes "a")))) ∷ on_line 3 (Apply (AddLine Bottom (NewRule (codes "$(a b)") Double []))) ∷ on_line 4 (Apply (RenameTarget (codes "$(a b)") (codes "$(p #)"))) ∷ on_line 5 End ∷ on_line 6 Cancel ∷ on_line 7 (Apply (AddLine (BeforeRule (Some 0) (codes "$(p #)")) (NewRule [] Double (codes "x.o")))) ∷ on_line 8 Redo ∷ on_line 9 (Apply (SetRecipe (Some 1) (codes "$(p #)") (ByNumber 1) (codes "q:=1"))) ∷ on_line 10 (Apply (ChangePrereqs None (codes "$(p #)") (RemovePrereq (codes "${g(}")))) ∷ on_line 11 (Apply (ChangePrereqs None (codes "$(p #)") (RemovePrereq (codes "t")))) ∷ on_line 12 (Apply (ChangePrereqs None (codes "$(p #)") (RemovePrereq (codes "t")))) ∷ [])) ∷  -- random-413
    (codes "rule bottom x.o \":\" \"\"\nredo\nrename \"x.o\" b\n\"recipe-del\"\t%.c\t\"4294967295\"\nnth 2 \"undepend\" b b\n recipe b \"e f \\\\ g\"\nnth 2 recipe-set a&b 1 \"\tb\"\nnth 1 undepend b foo\nrecipe-del  b  1\n undepend b t\n\"depend-order\" \"b\" \"$(a b)\"\nend\n", Ok (on_line 1 (Apply (AddLine Bottom (NewRule (codes "x.o") Single []))) ∷ on_line 2 Redo ∷ on_line 3 (Apply (RenameTarget (codes "x.o") (codes "b"))) ∷ on_line 4 (Apply (RemoveLines (OfRecipe None (codes "%.c") (ByNumber 4294967295)))) ∷ on_line 5 (Apply (ChangePrereqs (Some 2) (codes "b") (RemovePrereq (codes "b")))) ∷ on_line 6 (Apply (AddRecipe None (codes "b") Last (codes "e f \\ g"))) ∷ on_line 7 (Apply (SetRecipe (Some 2) (codes "a&b") (ByNumber 1) (codes "\tb"))) ∷ on_line 8 (Apply (ChangePrereqs (Some 1) (codes "b") (RemovePrereq (codes "foo")))) ∷ on_line 9 (Apply (RemoveLines (OfRecipe None (codes "b") (ByNumber 1)))) ∷ on_line 10 (Apply (ChangePrereqs None (codes "b") (RemovePrereq (codes "t")))) ∷ on_line 11 (Apply (ChangePrereqs None (codes "b") (AddPrereq true (codes "$(a b)")))) ∷ on_line 12 End ∷ [])) ∷  -- random-414
    (codes "\"assign\" \"bottom\" ifdef :::= \"a&b a&b\"\r\nredo", Ok (on_line 1 (Apply (AddLine Bottom (NewAssign (codes "ifdef") Immediate (codes "a&b a&b")))) ∷ on_line 2 Redo ∷ [])) ∷  -- random-415
    (codes "depend\t\"$(f {)\"\t\"$x\"\nrecipe-set .PHONY 2 $(\nrename a&b \"$(f {)\"", Ok (on_line 1 (Apply (ChangePrereqs None (codes "$(f {)") (AddPrereq false (codes "$x")))) ∷ on_line 2 (Apply (SetRecipe None (codes ".PHONY") (ByNumber 2) (codes "$("))) ∷ on_line 3 (Apply (RenameTarget (codes "a&b") (codes "$(f {)"))) ∷ [])) ∷  -- random-416
    (codes "recipe-set -include2 4294967295 >\n assign \"bottom\" endef \"?=\" 1\nrecipe-del -include2 4294967295\nrecipe-del \"b\" 1\nnth 4294967295 unrule \"$(p #)\"\nassign \"bottom\" e \"=\" \"| -include2\"\ndepend -include2 a", Ok (on_line 1 (Apply (SetRecipe None (codes "-include2") (ByNumber 4294967295) (codes ">"))) ∷ on_line 2 (Apply (AddLine Bottom (NewAssign (codes "endef") Conditional (codes "1")))) ∷ on_line 3 (Apply (RemoveLines (OfRecipe None (codes "-include2") (ByNumber 4294967295)))) ∷ on_line 4 (Apply (RemoveLines (OfRecipe None (codes "b") (ByNumber 1)))) ∷ on_line 5 (Apply (RemoveLines (OfRule (Some 4294967295) (codes "$(p #)")))) ∷ on_line 6 (Apply (AddLine Bottom (NewAssign (codes "e") Recursive (codes "| -include2")))) ∷ on_line 7 (Apply (ChangePrereqs None (codes "-include2") (AddPrereq false (codes "a")))) ∷ [])) ∷  -- random-417
    (codes "undo\r\nredo", Ok (on_line 1 Undo ∷ on_line 2 Redo ∷ [])) ∷  -- random-418
    (codes "redo\n nth 001 \"recipe-set\" x.o 4294967295 \"\"\nundo\nappend \"a\\\\=\" \"\"\nnth 1 unrule x.o\n append \"a\\\\=\" \"a ${g(}\"\nappend a\\= |\nrecipe \"x.o\" \"y # z\"\nnth 2 assign before-rule x.o a.b += \"\"\nnth \"2\" recipe-set x.o 0 \"$(\"\n", Ok (on_line 1 Redo ∷ on_line 2 (Apply (SetRecipe (Some 1) (codes "x.o") (ByNumber 4294967295) [])) ∷ on_line 3 Undo ∷ on_line 4 (Apply (ChangeValue (One None) (codes "a\\=") (edits.Append []))) ∷ on_line 5 (Apply (RemoveLines (OfRule (Some 1) (codes "x.o")))) ∷ on_line 6 (Apply (ChangeValue (One None) (codes "a\\=") (edits.Append (codes "a ${g(}")))) ∷ on_line 7 (Apply (ChangeValue (One None) (codes "a\\=") (edits.Append (codes "|")))) ∷ on_line 8 (Apply (AddRecipe None (codes "x.o") Last (codes "y # z"))) ∷ on_line 9 (Apply (AddLine (BeforeRule (Some 2) (codes "x.o")) (NewAssign (codes "a.b") Append []))) ∷ on_line 10 (Apply (SetRecipe (Some 2) (codes "x.o") (ByNumber 0) (codes "$("))) ∷ [])) ∷  -- random-419
    (codes "unrule foo\r\n set CC \":\"\r\nrename c $x\r\n assign before-var CC CC ::= \"; :\"\r\nundo\r\n\"recipe-del\"  $x  2\r\nundepend $x \"$(a b)\"\r\n unset  A\r\nrecipe-del\t$x\t2", Ok (on_line 1 (Apply (RemoveLines (OfRule None (codes "foo")))) ∷ on_line 2 (Apply (ChangeValue (One None) (codes "CC") (edits.Set (codes ":")))) ∷ on_line 3 (Apply (RenameTarget (codes "c") (codes "$x"))) ∷ on_line 4 (Apply (AddLine (BeforeVar None (codes "CC")) (NewAssign (codes "CC") PosixSimple (codes "; :")))) ∷ on_line 5 Undo ∷ on_line 6 (Apply (RemoveLines (OfRecipe None (codes "$x") (ByNumber 2)))) ∷ on_line 7 (Apply (ChangePrereqs None (codes "$x") (RemovePrereq (codes "$(a b)")))) ∷ on_line 8 (Apply (RemoveLines (OfAssign None (codes "A")))) ∷ on_line 9 (Apply (RemoveLines (OfRecipe None (codes "$x") (ByNumber 2)))) ∷ [])) ∷  -- random-420
    (codes "depend-order x.o $$\nunset t1\n\"recipe\"  c  \"\tb\"\n recipe  \"x.o\"  q:=1\nnth \"2\" append a.b t\nunrule c\ncancel\ndepend-order x.o \"$(f {)\"\n", Ok (on_line 1 (Apply (ChangePrereqs None (codes "x.o") (AddPrereq true (codes "$$")))) ∷ on_line 2 (Apply (RemoveLines (OfAssign None (codes "t1")))) ∷ on_line 3 (Apply (AddRecipe None (codes "c") Last (codes "\tb"))) ∷ on_line 4 (Apply (AddRecipe None (codes "x.o") Last (codes "q:=1"))) ∷ on_line 5 (Apply (ChangeValue (One (Some 2)) (codes "a.b") (edits.Append (codes "t")))) ∷ on_line 6 (Apply (RemoveLines (OfRule None (codes "c")))) ∷ on_line 7 Cancel ∷ on_line 8 (Apply (ChangePrereqs None (codes "x.o") (AddPrereq true (codes "$(f {)")))) ∷ [])) ∷  -- random-421
    (codes "undo\nundo\nnth\t1\trecipe-set\tx.o\t002\t\"y # z\"\nrename\t\"$(p #)\"\t${g(}\n\"set\" a.b \\#\nassign  bottom  Y  :=  \"\"\n", Ok (on_line 1 Undo ∷ on_line 2 Undo ∷ on_line 3 (Apply (SetRecipe (Some 1) (codes "x.o") (ByNumber 2) (codes "y # z"))) ∷ on_line 4 (Apply (RenameTarget (codes "$(p #)") (codes "${g(}"))) ∷ on_line 5 (Apply (ChangeValue (One None) (codes "a.b") (edits.Set (codes "\\#")))) ∷ on_line 6 (Apply (AddLine Bottom (NewAssign (codes "Y") Simple []))) ∷ [])) ∷  -- random-422
    (codes "rule  \"before-var\"  \"endef\"  \"t $x\"  :  \"\"\r\nundo\r\nrule bottom ${c} \":\" $x\r\nrecipe-set ${c} 1 q:=1\r\nunrule $x\r\nredo\r\nredo\r\nundo", Ok (on_line 1 (Apply (AddLine (BeforeVar None (codes "endef")) (NewRule (codes "t $x") Single []))) ∷ on_line 2 Undo ∷ on_line 3 (Apply (AddLine Bottom (NewRule (codes "${c}") Single (codes "$x")))) ∷ on_line 4 (Apply (SetRecipe None (codes "${c}") (ByNumber 1) (codes "q:=1"))) ∷ on_line 5 (Apply (RemoveLines (OfRule None (codes "$x")))) ∷ on_line 6 Redo ∷ on_line 7 Redo ∷ on_line 8 Undo ∷ [])) ∷  -- random-423
    (codes "rule bottom %.o :: \"\"\nrecipe-del \"%.o\" 1\n", Ok (on_line 1 (Apply (AddLine Bottom (NewRule (codes "%.o") Double []))) ∷ on_line 2 (Apply (RemoveLines (OfRecipe None (codes "%.o") (ByNumber 1)))) ∷ [])) ∷  -- random-424
    (codes " nth 001 \"unrule\" \"a\"\n recipe \"a&b\" \"q:=1\"\n\"nth\" 002 set \"o-$(a b)\" \"$(f {)\"\n", Ok (on_line 1 (Apply (RemoveLines (OfRule (Some 1) (codes "a")))) ∷ on_line 2 (Apply (AddRecipe None (codes "a&b") Last (codes "q:=1"))) ∷ on_line 3 (Apply (ChangeValue (One (Some 2)) (codes "o-$(a b)") (edits.Set (codes "$(f {)")))) ∷ [])) ∷  -- random-425
    (codes " unset ifdef\nrule  bottom  \"$(a b)\"  :  \"$\\\\\"\nundo\nbegin\nset ifdef \"$# $(q:;=|)\"\ncancel\n", Ok (on_line 1 (Apply (RemoveLines (OfAssign None (codes "ifdef")))) ∷ on_line 2 (Apply (AddLine Bottom (NewRule (codes "$(a b)") Single (codes "$\\")))) ∷ on_line 3 Undo ∷ on_line 4 Begin ∷ on_line 5 (Apply (ChangeValue (One None) (codes "ifdef") (edits.Set (codes "$# $(q:;=|)")))) ∷ on_line 6 Cancel ∷ [])) ∷  -- random-426
    (codes "rule bottom \"b ${c}\" :: $$\nend\n \"unrule\"\t\"b\"\nassign \"before-rule\" $(q:;=|) >q \"!=\" \"|\"\nundo\n", Ok (on_line 1 (Apply (AddLine Bottom (NewRule (codes "b ${c}") Double (codes "$$")))) ∷ on_line 2 End ∷ on_line 3 (Apply (RemoveLines (OfRule None (codes "b")))) ∷ on_line 4 (Apply (AddLine (BeforeRule None (codes "$(q:;=|)")) (NewAssign (codes ">q") Shell (codes "|")))) ∷ on_line 5 Undo ∷ [])) ∷  -- random-427
    (codes " nth \"4294967295\" unset t1\n\"recipe\" %.o cÿ\n rule \"after-var\" .RECIPEPREFIX \"$(q:;=|) %.c\" : \"foo $(f {)\"\nrename ${g(} a&b\ncancel\nnth 0 unset override", Ok (on_line 1 (Apply (RemoveLines (OfAssign (Some 4294967295) (codes "t1")))) ∷ on_line 2 (Apply (AddRecipe None (codes "%.o") Last (codes "cÿ"))) ∷ on_line 3 (Apply (AddLine (AfterVar None (codes ".RECIPEPREFIX")) (NewRule (codes "$(q:;=|) %.c") Single (codes "foo $(f {)")))) ∷ on_line 4 (Apply (RenameTarget (codes "${g(}") (codes "a&b"))) ∷ on_line 5 Cancel ∷ on_line 6 (Apply (RemoveLines (OfAssign (Some 0) (codes "override")))) ∷ [])) ∷  -- random-428
    (codes "\"set\" A \"t $(q:;=|)\"\nredo\nnth  1  set  Z  $(q:;=|)\nrule  after-var  Z  \"${g(} %.c\"  :  \"\"\nundepend ${g(} \"$(p #)\"\nunrule %.c\ncancel\n", Ok (on_line 1 (Apply (ChangeValue (One None) (codes "A") (edits.Set (codes "t $(q:;=|)")))) ∷ on_line 2 Redo ∷ on_line 3 (Apply (ChangeValue (One (Some 1)) (codes "Z") (edits.Set (codes "$(q:;=|)")))) ∷ on_line 4 (Apply (AddLine (AfterVar None (codes "Z")) (NewRule (codes "${g(} %.c") Single []))) ∷ on_line 5 (Apply (ChangePrereqs None (codes "${g(}") (RemovePrereq (codes "$(p #)")))) ∷ on_line 6 (Apply (RemoveLines (OfRule None (codes "%.c")))) ∷ on_line 7 Cancel ∷ [])) ∷  -- random-429
    (codes "recipe foo define\nunrule foo\nassign after-var t1 A \":::=\" \"$$ ${g(}\"\nnth 001 unset a.b\nrecipe-set  foo  \"002\"  \"\tb\"\n set \"define\" \"2 3\"\n", Ok (on_line 1 (Apply (AddRecipe None (codes "foo") Last (codes "define"))) ∷ on_line 2 (Apply (RemoveLines (OfRule None (codes "foo")))) ∷ on_line 3 (Apply (AddLine (AfterVar None (codes "t1")) (NewAssign (codes "A") Immediate (codes "$$ ${g(}")))) ∷ on_line 4 (Apply (RemoveLines (OfAssign (Some 1) (codes "a.b")))) ∷ on_line 5 (Apply (SetRecipe None (codes "foo") (ByNumber 2) (codes "\tb"))) ∷ on_line 6 (Apply (ChangeValue (One None) (codes "define") (edits.Set (codes "2 3")))) ∷ [])) ∷  -- random-430
    (codes "nth \"2\" rule \"before-var\" endef \"$(p #)\" : \"\"\nappend\tendef\t\"${g(} $x\"\nnth 2 rule after-var endef \"c\" : \"\"\nnth 0 append endef \"$$ t\"\nset endef \"$#\"\n \"nth\"\t\"000\"\t\"rule\"\tbefore-var\t\"endef\"\t\".PHONY $(f {)\"\t:\t\"\"\n\"set\" \"endef\" \"\"\nend\n\"nth\" 001 set endef \"\"\n\"unset\" t1\nset  endef  \"1\"\n", Ok (on_line 1 (Apply (AddLine (BeforeVar (Some 2) (codes "endef")) (NewRule (codes "$(p #)") Single []))) ∷ on_line 2 (Apply (ChangeValue (One None) (codes "endef") (edits.Append (codes "${g(} $x")))) ∷ on_line 3 (Apply (AddLine (AfterVar (Some 2) (codes "endef")) (NewRule (codes "c") Single []))) ∷ on_line 4 (Apply (ChangeValue (One (Some 0)) (codes "endef") (edits.Append (codes "$$ t")))) ∷ on_line 5 (Apply (ChangeValue (One None) (codes "endef") (edits.Set (codes "$#")))) ∷ on_line 6 (Apply (AddLine (BeforeVar (Some 0) (codes "endef")) (NewRule (codes ".PHONY $(f {)") Single []))) ∷ on_line 7 (Apply (ChangeValue (One None) (codes "endef") (edits.Set []))) ∷ on_line 8 End ∷ on_line 9 (Apply (ChangeValue (One (Some 1)) (codes "endef") (edits.Set []))) ∷ on_line 10 (Apply (RemoveLines (OfAssign None (codes "t1")))) ∷ on_line 11 (Apply (ChangeValue (One None) (codes "endef") (edits.Set (codes "1")))) ∷ [])) ∷  -- random-431
    (codes "unrule \".PHONY\"\nset\tt1\t$(q:;=|)\n\"assign\" bottom Y \"!=\" foo\nunset Y\nrule bottom \"${g(} $(a b)\" :: \".PHONY a&b\"\nbegin\nredo\nassign  \"bottom\"  Y  !=  \\$x\nnth 0 \"rule\" \"before-var\" Y t :: |d\nundo\nnth\t0\tundepend\t\"a\"\t\"$(s\\\\)\"\n", Ok (on_line 1 (Apply (RemoveLines (OfRule None (codes ".PHONY")))) ∷ on_line 2 (Apply (ChangeValue (One None) (codes "t1") (edits.Set (codes "$(q:;=|)")))) ∷ on_line 3 (Apply (AddLine Bottom (NewAssign (codes "Y") Shell (codes "foo")))) ∷ on_line 4 (Apply (RemoveLines (OfAssign None (codes "Y")))) ∷ on_line 5 (Apply (AddLine Bottom (NewRule (codes "${g(} $(a b)") Double (codes ".PHONY a&b")))) ∷ on_line 6 Begin ∷ on_line 7 Redo ∷ on_line 8 (Apply (AddLine Bottom (NewAssign (codes "Y") Shell (codes "\\$x")))) ∷ on_line 9 (Apply (AddLine (BeforeVar (Some 0) (codes "Y")) (NewRule (codes "t") Double (codes "|d")))) ∷ on_line 10 Undo ∷ on_line 11 (Apply (ChangePrereqs (Some 0) (codes "a") (RemovePrereq (codes "$(s\\)")))) ∷ [])) ∷  -- random-432
    (codes "end\nassign\tbefore-rule\t\"a\"\tifdef\t?=\t%.o\nunset \"a.b\"\n\"unset\" .RECIPEPREFIX\n", Ok (on_line 1 End ∷ on_line 2 (Apply (AddLine (BeforeRule None (codes "a")) (NewAssign (codes "ifdef") Conditional (codes "%.o")))) ∷ on_line 3 (Apply (RemoveLines (OfAssign None (codes "a.b")))) ∷ on_line 4 (Apply (RemoveLines (OfAssign None (codes ".RECIPEPREFIX")))) ∷ [])) ∷  -- random-433
    (codes "\"recipe-del\" x.o 1\r\n\"depend-order\" x.o a&b\r\nunrule \"x.o\"\r\nrename $$ \"$(a b)\"\r\n\"unrule\" b\r\nredo\r\nrename \"x.o\" \"$(q:;=|)\"\r\n", Ok (on_line 1 (Apply (RemoveLines (OfRecipe None (codes "x.o") (ByNumber 1)))) ∷ on_line 2 (Apply (ChangePrereqs None (codes "x.o") (AddPrereq true (codes "a&b")))) ∷ on_line 3 (Apply (RemoveLines (OfRule None (codes "x.o")))) ∷ on_line 4 (Apply (RenameTarget (codes "$$") (codes "$(a b)"))) ∷ on_line 5 (Apply (RemoveLines (OfRule None (codes "b")))) ∷ on_line 6 Redo ∷ on_line 7 (Apply (RenameTarget (codes "x.o") (codes "$(q:;=|)"))) ∷ [])) ∷  -- random-435
    (codes "unrule b\nassign bottom define ::= \"\"\nassign bottom A += 1\nundo\n", Ok (on_line 1 (Apply (RemoveLines (OfRule None (codes "b")))) ∷ on_line 2 (Apply (AddLine Bottom (NewAssign (codes "define") PosixSimple []))) ∷ on_line 3 (Apply (AddLine Bottom (NewAssign (codes "A") Append (codes "1")))) ∷ on_line 4 Undo ∷ [])) ∷  -- random-437
    (codes "rename  ${c}  ${g(}\nbegin\n\"assign\" bottom define \"::=\" x.o\nunset  \"define\"\nundo\nrule\tbottom\tfoo\t:\t\"%.o\"\n \"rule\" bottom %.o : t\nundo\n\ndepend-order foo foo\n", Ok (on_line 1 (Apply (RenameTarget (codes "${c}") (codes "${g(}"))) ∷ on_line 2 Begin ∷ on_line 3 (Apply (AddLine Bottom (NewAssign (codes "define") PosixSimple (codes "x.o")))) ∷ on_line 4 (Apply (RemoveLines (OfAssign None (codes "define")))) ∷ on_line 5 Undo ∷ on_line 6 (Apply (AddLine Bottom (NewRule (codes "foo") Single (codes "%.o")))) ∷ on_line 7 (Apply (AddLine Bottom (NewRule (codes "%.o") Single (codes "t")))) ∷ on_line 8 Undo ∷ on_line 10 (Apply (ChangePrereqs None (codes "foo") (AddPrereq true (codes "foo")))) ∷ [])) ∷  -- random-438
    (codes "rule bottom \"t\" : \"\"\nredo\n\"nth\" 4294967295 undepend t \"c\"\nset >override \"foo $(s\\\\)\"\nundo\n\"recipe-set\"\t.PHONY\t2\t\"y # z\"\nnth \"1\" unrule $(q:;=|)\nunrule -include2\nend\nrecipe-del .PHONY \"4294967295\"\n", Ok (on_line 1 (Apply (AddLine Bottom (NewRule (codes "t") Single []))) ∷ on_line 2 Redo ∷ on_line 3 (Apply (ChangePrereqs (Some 4294967295) (codes "t") (RemovePrereq (codes "c")))) ∷ on_line 4 (Apply (ChangeValue (One None) (codes ">override") (edits.Set (codes "foo $(s\\)")))) ∷ on_line 5 Undo ∷ on_line 6 (Apply (SetRecipe None (codes ".PHONY") (ByNumber 2) (codes "y # z"))) ∷ on_line 7 (Apply (RemoveLines (OfRule (Some 1) (codes "$(q:;=|)")))) ∷ on_line 8 (Apply (RemoveLines (OfRule None (codes "-include2")))) ∷ on_line 9 End ∷ on_line 10 (Apply (RemoveLines (OfRecipe None (codes ".PHONY") (ByNumber 4294967295)))) ∷ [])) ∷  -- random-439
    (codes "undo\nundo\nundo\nnth  \"4294967295\"  \"recipe\"  %.o  \"x\"\nredo\n", Ok (on_line 1 Undo ∷ on_line 2 Undo ∷ on_line 3 Undo ∷ on_line 4 (Apply (AddRecipe (Some 4294967295) (codes "%.o") Last (codes "x"))) ∷ on_line 5 Redo ∷ [])) ∷  -- random-440
    (codes "nth 2 unrule \"${g(}\"\r\ndepend-order  ${g(}  $(q:;=|)\r\nnth 4294967295 unset \".RECIPEPREFIX\"\r\nnth 4294967295 set .RECIPEPREFIX :\r\nassign before-rule ${g(} t \":::=\" \"\"\r\n nth 0 \"recipe\" ${g(} define\r\nbegin\r\nunrule\t${g(}\r\n\"append\" .RECIPEPREFIX \"foo\"\r\nundo\r\n", Ok (on_line 1 (Apply (RemoveLines (OfRule (Some 2) (codes "${g(}")))) ∷ on_line 2 (Apply (ChangePrereqs None (codes "${g(}") (AddPrereq true (codes "$(q:;=|)")))) ∷ on_line 3 (Apply (RemoveLines (OfAssign (Some 4294967295) (codes ".RECIPEPREFIX")))) ∷ on_line 4 (Apply (ChangeValue (One (Some 4294967295)) (codes ".RECIPEPREFIX") (edits.Set (codes ":")))) ∷ on_line 5 (Apply (AddLine (BeforeRule None (codes "${g(}")) (NewAssign (codes "t") Immediate []))) ∷ on_line 6 (Apply (AddRecipe (Some 0) (codes "${g(}") Last (codes "define"))) ∷ on_line 7 Begin ∷ on_line 8 (Apply (RemoveLines (OfRule None (codes "${g(}")))) ∷ on_line 9 (Apply (ChangeValue (One None) (codes ".RECIPEPREFIX") (edits.Append (codes "foo")))) ∷ on_line 10 Undo ∷ [])) ∷  -- random-441
    (codes "\"rule\" bottom \"\" :: \"b& x.o\"\nredo\nassign bottom t :::= \"\"\n", Ok (on_line 1 (Apply (AddLine Bottom (NewRule [] Double (codes "b& x.o")))) ∷ on_line 2 Redo ∷ on_line 3 (Apply (AddLine Bottom (NewAssign (codes "t") Immediate []))) ∷ [])) ∷  -- random-442
    []

answers_8 : map (λ row. read_script row.0) rows_8 ≡ map (λ row. row.1) rows_8
unfolding line_len lines_from
answers_8 = refl

abbrev rows_9 : List (List ℕ × Result (List Step) ℕ)
rows_9 =
    (codes "assign\tafter-var\tdefine\te\t+=\t\"b $(s\\\\)\"", Ok (on_line 1 (Apply (AddLine (AfterVar None (codes "define")) (NewAssign (codes "e") Append (codes "b $(s\\)")))) ∷ [])) ∷  -- random-443
    (codes " rule bottom b : ${g(}\nassign \"bottom\" ifdef = \"$(p #)\"\nassign bottom define := $$\nrule bottom x.o :: \"\"\nset X \"a\nnth 0 append ifdef \\$x\nundo\nappend >q \"-include2\"\nassign\tbottom\tt\t\"=\"\t\"a&b c\"\nrule bottom \"\" :: \"$$ a&b\"\n", Err 5) ∷  -- random-444
    (codes "end\r\nundo\r\ndepend c a&b\r\nappend >q \"$(f {) a\"\r\nunrule \"%.o\"\r\nrule \"bottom\" $$ :: \"${c} \\\\\"\r\nnth \"001\" set >q \"foo $(p #)\"\r\nend", Ok (on_line 1 End ∷ on_line 2 Undo ∷ on_line 3 (Apply (ChangePrereqs None (codes "c") (AddPrereq false (codes "a&b")))) ∷ on_line 4 (Apply (ChangeValue (One None) (codes ">q") (edits.Append (codes "$(f {) a")))) ∷ on_line 5 (Apply (RemoveLines (OfRule None (codes "%.o")))) ∷ on_line 6 (Apply (AddLine Bottom (NewRule (codes "$$") Double (codes "${c} \\")))) ∷ on_line 7 (Apply (ChangeValue (One (Some 1)) (codes ">q") (edits.Set (codes "foo $(p #)")))) ∷ on_line 8 End ∷ [])) ∷  -- random-445
    (codes "depend-order  foo  %.c\r\nundo\r\nbegin\r\n", Ok (on_line 1 (Apply (ChangePrereqs None (codes "foo") (AddPrereq true (codes "%.c")))) ∷ on_line 2 Undo ∷ on_line 3 Begin ∷ [])) ∷  -- random-447
    (codes "recipe $x q:=1\n\"nth\" 0 \"assign\" before-rule a A += \"${c} $(q:;=|)\"\nrename a %.c\nnth  \"4294967295\"  unset  override\n\"recipe\" %.c \">\"\nunset override\nundo\n\"assign\" \"bottom\" \"e\" ::= b\nrule bottom \"$$ foo\" : \"$(s\\\\) -include2\"\n", Ok (on_line 1 (Apply (AddRecipe None (codes "$x") Last (codes "q:=1"))) ∷ on_line 2 (Apply (AddLine (BeforeRule (Some 0) (codes "a")) (NewAssign (codes "A") Append (codes "${c} $(q:;=|)")))) ∷ on_line 3 (Apply (RenameTarget (codes "a") (codes "%.c"))) ∷ on_line 4 (Apply (RemoveLines (OfAssign (Some 4294967295) (codes "override")))) ∷ on_line 5 (Apply (AddRecipe None (codes "%.c") Last (codes ">"))) ∷ on_line 6 (Apply (RemoveLines (OfAssign None (codes "override")))) ∷ on_line 7 Undo ∷ on_line 8 (Apply (AddLine Bottom (NewAssign (codes "e") PosixSimple (codes "b")))) ∷ on_line 9 (Apply (AddLine Bottom (NewRule (codes "$$ foo") Single (codes "$(s\\) -include2")))) ∷ [])) ∷  -- random-449
    (codes "\"undepend\" b ${c}\nset CC \":\"\nundepend b \"$(a b)\"", Ok (on_line 1 (Apply (ChangePrereqs None (codes "b") (RemovePrereq (codes "${c}")))) ∷ on_line 2 (Apply (ChangeValue (One None) (codes "CC") (edits.Set (codes ":")))) ∷ on_line 3 (Apply (ChangePrereqs None (codes "b") (RemovePrereq (codes "$(a b)")))) ∷ [])) ∷  -- random-450
    (codes "redo\nundepend \"$(p #)\" a\nundo\n\"rule\" bottom \"-include2\" : %.c\nrename\t-include2\tb\n\"rename\"  \"%.c\"  b\ndepend ${g(} %.c\n \"recipe-del\" -include2 0\nrule before-var override \"a&b .PHONY\" : \"$$ $x\"\ndepend $x \"$(a b)\"\n", Ok (on_line 1 Redo ∷ on_line 2 (Apply (ChangePrereqs None (codes "$(p #)") (RemovePrereq (codes "a")))) ∷ on_line 3 Undo ∷ on_line 4 (Apply (AddLine Bottom (NewRule (codes "-include2") Single (codes "%.c")))) ∷ on_line 5 (Apply (RenameTarget (codes "-include2") (codes "b"))) ∷ on_line 6 (Apply (RenameTarget (codes "%.c") (codes "b"))) ∷ on_line 7 (Apply (ChangePrereqs None (codes "${g(}") (AddPrereq false (codes "%.c")))) ∷ on_line 8 (Apply (RemoveLines (OfRecipe None (codes "-include2") (ByNumber 0)))) ∷ on_line 9 (Apply (AddLine (BeforeVar None (codes "override")) (NewRule (codes "a&b .PHONY") Single (codes "$$ $x")))) ∷ on_line 10 (Apply (ChangePrereqs None (codes "$x") (AddPrereq false (codes "$(a b)")))) ∷ [])) ∷  -- random-451
    (codes "set override a&b\r\nnth 0 recipe y cÿ\r\nnth 2 undepend x.o x.o", Ok (on_line 1 (Apply (ChangeValue (One None) (codes "override") (edits.Set (codes "a&b")))) ∷ on_line 2 (Apply (AddRecipe (Some 0) (codes "y") Last (codes "cÿ"))) ∷ on_line 3 (Apply (ChangePrereqs (Some 2) (codes "x.o") (RemovePrereq (codes "x.o")))) ∷ [])) ∷  -- random-452
    (codes " assign \"before-rule\" foo ifdef := b\n\"recipe-del\" \"foo\" 1\nrename $x \"$(f {)\"\ndepend foo %.o\nundo\n\"depend-order\"\tfoo\t${g(}\nredo", Ok (on_line 1 (Apply (AddLine (BeforeRule None (codes "foo")) (NewAssign (codes "ifdef") Simple (codes "b")))) ∷ on_line 2 (Apply (RemoveLines (OfRecipe None (codes "foo") (ByNumber 1)))) ∷ on_line 3 (Apply (RenameTarget (codes "$x") (codes "$(f {)"))) ∷ on_line 4 (Apply (ChangePrereqs None (codes "foo") (AddPrereq false (codes "%.o")))) ∷ on_line 5 Undo ∷ on_line 6 (Apply (ChangePrereqs None (codes "foo") (AddPrereq true (codes "${g(}")))) ∷ on_line 7 Redo ∷ [])) ∷  -- random-453
    (codes "assign after-var Y ifdef \":::=\" \"\"\nunset a.b\n\"nth\" \"1\" unset \"ifdef\"\n\"recipe\"  %.c  \" a\"\nrecipe-set $x 001 t\n\"depend-order\" $(q:;=|) $(q:;=|)\nbegin\nbegin", Ok (on_line 1 (Apply (AddLine (AfterVar None (codes "Y")) (NewAssign (codes "ifdef") Immediate []))) ∷ on_line 2 (Apply (RemoveLines (OfAssign None (codes "a.b")))) ∷ on_line 3 (Apply (RemoveLines (OfAssign (Some 1) (codes "ifdef")))) ∷ on_line 4 (Apply (AddRecipe None (codes "%.c") Last (codes " a"))) ∷ on_line 5 (Apply (SetRecipe None (codes "$x") (ByNumber 1) (codes "t"))) ∷ on_line 6 (Apply (ChangePrereqs None (codes "$(q:;=|)") (AddPrereq true (codes "$(q:;=|)")))) ∷ on_line 7 Begin ∷ on_line 8 Begin ∷ [])) ∷  -- random-454
    (codes "\"rule\" bottom ${c} \"::\" \"$(f {)\"\r\nredo\r\nredo\r\n\"rename\"  ${c}  t\r\nundo\r\nrule\tbottom\t\"$x\"\t::\t\"\"\r\nrecipe ${c} x", Ok (on_line 1 (Apply (AddLine Bottom (NewRule (codes "${c}") Double (codes "$(f {)")))) ∷ on_line 2 Redo ∷ on_line 3 Redo ∷ on_line 4 (Apply (RenameTarget (codes "${c}") (codes "t"))) ∷ on_line 5 Undo ∷ on_line 6 (Apply (AddLine Bottom (NewRule (codes "$x") Double []))) ∷ on_line 7 (Apply (AddRecipe None (codes "${c}") Last (codes "x"))) ∷ [])) ∷  -- random-455
    (codes "set .RECIPEPREFIX \"t %.o\"\nend\nassign  before-rule  %.c  e  :=  \"\"\n\"nth\"\t\"000\"\trecipe\t\"$\t\"\t\"y # z\"\nnth 4294967295 recipe %.c define\nrecipe b cÿ\ncancel\n", Ok (on_line 1 (Apply (ChangeValue (One None) (codes ".RECIPEPREFIX") (edits.Set (codes "t %.o")))) ∷ on_line 2 End ∷ on_line 3 (Apply (AddLine (BeforeRule None (codes "%.c")) (NewAssign (codes "e") Simple []))) ∷ on_line 4 (Apply (AddRecipe (Some 0) (codes "$\t") Last (codes "y # z"))) ∷ on_line 5 (Apply (AddRecipe (Some 4294967295) (codes "%.c") Last (codes "define"))) ∷ on_line 6 (Apply (AddRecipe None (codes "b") Last (codes "cÿ"))) ∷ on_line 7 Cancel ∷ [])) ∷  -- random-456
    (codes "rule before-rule ${c} \"\" : b\nunrule  \"${c}\"\nrecipe-del a 0\nundepend b a\nassign bottom X := %.o\nunset X\nrule before-var Y \"\" :: \"\"\n", Ok (on_line 1 (Apply (AddLine (BeforeRule None (codes "${c}")) (NewRule [] Single (codes "b")))) ∷ on_line 2 (Apply (RemoveLines (OfRule None (codes "${c}")))) ∷ on_line 3 (Apply (RemoveLines (OfRecipe None (codes "a") (ByNumber 0)))) ∷ on_line 4 (Apply (ChangePrereqs None (codes "b") (RemovePrereq (codes "a")))) ∷ on_line 5 (Apply (AddLine Bottom (NewAssign (codes "X") Simple (codes "%.o")))) ∷ on_line 6 (Apply (RemoveLines (OfAssign None (codes "X")))) ∷ on_line 7 (Apply (AddLine (BeforeVar None (codes "Y")) (NewRule [] Double []))) ∷ [])) ∷  -- random-457
    (codes "assign bottom t1 :::= t\n", Ok (on_line 1 (Apply (AddLine Bottom (NewAssign (codes "t1") Immediate (codes "t")))) ∷ [])) ∷  -- random-458
    (codes "assign bottom define := \"$(p #) x.o\"\nassign after-var .RECIPEPREFIX define = $x\nrule bottom \"\" :: \"$(f {) $(f {)\"\n\"rule\" \"bottom\" \"${c} $(a b)\" \":\" \"\"", Ok (on_line 1 (Apply (AddLine Bottom (NewAssign (codes "define") Simple (codes "$(p #) x.o")))) ∷ on_line 2 (Apply (AddLine (AfterVar None (codes ".RECIPEPREFIX")) (NewAssign (codes "define") Recursive (codes "$x")))) ∷ on_line 3 (Apply (AddLine Bottom (NewRule [] Double (codes "$(f {) $(f {)")))) ∷ on_line 4 (Apply (AddLine Bottom (NewRule (codes "${c} $(a b)") Single []))) ∷ [])) ∷  -- random-459
    (codes "unset endef\nunset\tifdef\nset ifdef =\nappend ifdef \"2 3 1\"\nundo\nunset \"ifdef\"\n", Ok (on_line 1 (Apply (RemoveLines (OfAssign None (codes "endef")))) ∷ on_line 2 (Apply (RemoveLines (OfAssign None (codes "ifdef")))) ∷ on_line 3 (Apply (ChangeValue (One None) (codes "ifdef") (edits.Set (codes "=")))) ∷ on_line 4 (Apply (ChangeValue (One None) (codes "ifdef") (edits.Append (codes "2 3 1")))) ∷ on_line 5 Undo ∷ on_line 6 (Apply (RemoveLines (OfAssign None (codes "ifdef")))) ∷ [])) ∷  -- random-460
    (codes "nth  001  recipe-del  -include2  \"1\"\nbegin\ndepend -include2 \"$(f {)\"\nset CC \\$x\n\"unset\"  CC\nassign bottom CC ?= \"$(f {) $(s\\\\)\"\nnth 000 assign before-rule -include2 Y != \"\\\\$x \\\\#\"\nundepend \"-include2\" \"$(f {)\"\nrecipe\t-include2\tx\nundepend  -include2  \"$(f {)\"\nend\n depend -include2 \"$(s\\\\)\"\n", Ok (on_line 1 (Apply (RemoveLines (OfRecipe (Some 1) (codes "-include2") (ByNumber 1)))) ∷ on_line 2 Begin ∷ on_line 3 (Apply (ChangePrereqs None (codes "-include2") (AddPrereq false (codes "$(f {)")))) ∷ on_line 4 (Apply (ChangeValue (One None) (codes "CC") (edits.Set (codes "\\$x")))) ∷ on_line 5 (Apply (RemoveLines (OfAssign None (codes "CC")))) ∷ on_line 6 (Apply (AddLine Bottom (NewAssign (codes "CC") Conditional (codes "$(f {) $(s\\)")))) ∷ on_line 7 (Apply (AddLine (BeforeRule (Some 0) (codes "-include2")) (NewAssign (codes "Y") Shell (codes "\\$x \\#")))) ∷ on_line 8 (Apply (ChangePrereqs None (codes "-include2") (RemovePrereq (codes "$(f {)")))) ∷ on_line 9 (Apply (AddRecipe None (codes "-include2") Last (codes "x"))) ∷ on_line 10 (Apply (ChangePrereqs None (codes "-include2") (RemovePrereq (codes "$(f {)")))) ∷ on_line 11 End ∷ on_line 12 (Apply (ChangePrereqs None (codes "-include2") (AddPrereq false (codes "$(s\\)")))) ∷ [])) ∷  -- random-461
    (codes "begin\n\"undepend\" foo c$-include2>else", Ok (on_line 1 Begin ∷ on_line 2 (Apply (ChangePrereqs None (codes "foo") (RemovePrereq (codes "c$-include2>else")))) ∷ [])) ∷  -- random-462
    (codes "depend %.o $(q:;=|)\nrename\t$$\tt\n rule bottom a : ${c}\ndepend\t%.o\t\"c\"\nbegin\nrename $$ $(q:;=|)\nunrule $(s\\)\n\"undepend\" %.o b\n\"recipe-set\" a \"1\" \" a\"\n\"assign\" bottom CC != \"$(q:;=|) a&b\"\n", Ok (on_line 1 (Apply (ChangePrereqs None (codes "%.o") (AddPrereq false (codes "$(q:;=|)")))) ∷ on_line 2 (Apply (RenameTarget (codes "$$") (codes "t"))) ∷ on_line 3 (Apply (AddLine Bottom (NewRule (codes "a") Single (codes "${c}")))) ∷ on_line 4 (Apply (ChangePrereqs None (codes "%.o") (AddPrereq false (codes "c")))) ∷ on_line 5 Begin ∷ on_line 6 (Apply (RenameTarget (codes "$$") (codes "$(q:;=|)"))) ∷ on_line 7 (Apply (RemoveLines (OfRule None (codes "$(s\\)")))) ∷ on_line 8 (Apply (ChangePrereqs None (codes "%.o") (RemovePrereq (codes "b")))) ∷ on_line 9 (Apply (SetRecipe None (codes "a") (ByNumber 1) (codes " a"))) ∷ on_line 10 (Apply (AddLine Bottom (NewAssign (codes "CC") Shell (codes "$(q:;=|) a&b")))) ∷ [])) ∷  -- random-463
    (codes "\"nth\" 4294967295 depend-order foo $(s\\)\r\nrule before-var A \"$(a b) ${g(}\" :: \"\\\\# $(a b)\"\r\nend\r\nunrule y\r\ndepend-order  foo  \"a\"\r\nundepend x.o $(s\\)\r\n\"rename\" \"a\" \"$(f {)\"\r\n\"recipe\" x.o \"e f \\\\ g\"\r\nnth 4294967295 \"rule\" \"before-rule\" x.o \"$(p #)\" : \"%.o $$\"\r\ndepend  y  $x\r\n", Ok (on_line 1 (Apply (ChangePrereqs (Some 4294967295) (codes "foo") (AddPrereq true (codes "$(s\\)")))) ∷ on_line 2 (Apply (AddLine (BeforeVar None (codes "A")) (NewRule (codes "$(a b) ${g(}") Double (codes "\\# $(a b)")))) ∷ on_line 3 End ∷ on_line 4 (Apply (RemoveLines (OfRule None (codes "y")))) ∷ on_line 5 (Apply (ChangePrereqs None (codes "foo") (AddPrereq true (codes "a")))) ∷ on_line 6 (Apply (ChangePrereqs None (codes "x.o") (RemovePrereq (codes "$(s\\)")))) ∷ on_line 7 (Apply (RenameTarget (codes "a") (codes "$(f {)"))) ∷ on_line 8 (Apply (AddRecipe None (codes "x.o") Last (codes "e f \\ g"))) ∷ on_line 9 (Apply (AddLine (BeforeRule (Some 4294967295) (codes "x.o")) (NewRule (codes "$(p #)") Single (codes "%.o $$")))) ∷ on_line 10 (Apply (ChangePrereqs None (codes "y") (AddPrereq false (codes "$x")))) ∷ [])) ∷  -- random-464
    (codes "rule  bottom  \"${g(} $(f {)\"  :  \"$\"\n\"nth\" 2 set .RECIPEPREFIX \"\\\\# $(f {)\"\nundo\nappend\t\"ifdef\"\t\"\"\nassign  bottom  t1  !=  \"\"\nrule after-var \"t1\" \"\" \":\" \"\"\nunset \"t1\"\nassign bottom A \"::=\" \"\"\n\"nth\" 1 unset A\nassign bottom \"X\" ::= \"\"\n", Ok (on_line 1 (Apply (AddLine Bottom (NewRule (codes "${g(} $(f {)") Single (codes "$")))) ∷ on_line 2 (Apply (ChangeValue (One (Some 2)) (codes ".RECIPEPREFIX") (edits.Set (codes "\\# $(f {)")))) ∷ on_line 3 Undo ∷ on_line 4 (Apply (ChangeValue (One None) (codes "ifdef") (edits.Append []))) ∷ on_line 5 (Apply (AddLine Bottom (NewAssign (codes "t1") Shell []))) ∷ on_line 6 (Apply (AddLine (AfterVar None (codes "t1")) (NewRule [] Single []))) ∷ on_line 7 (Apply (RemoveLines (OfAssign None (codes "t1")))) ∷ on_line 8 (Apply (AddLine Bottom (NewAssign (codes "A") PosixSimple []))) ∷ on_line 9 (Apply (RemoveLines (OfAssign (Some 1) (codes "A")))) ∷ on_line 10 (Apply (AddLine Bottom (NewAssign (codes "X") PosixSimple []))) ∷ [])) ∷  -- random-465
    (codes "rule bottom c : \"\"\nrule bottom \"else %.o\" :: \"\"\nend\nrule bottom \"\" : \"a a\"\n undepend -include2 x.o\nrule bottom a&b \":\" \"\"\nunrule $(q:;=|)\nassign  bottom  \"A\"  :=  \"${g(}\"", Ok (on_line 1 (Apply (AddLine Bottom (NewRule (codes "c") Single []))) ∷ on_line 2 (Apply (AddLine Bottom (NewRule (codes "else %.o") Double []))) ∷ on_line 3 End ∷ on_line 4 (Apply (AddLine Bottom (NewRule [] Single (codes "a a")))) ∷ on_line 5 (Apply (ChangePrereqs None (codes "-include2") (RemovePrereq (codes "x.o")))) ∷ on_line 6 (Apply (AddLine Bottom (NewRule (codes "a&b") Single []))) ∷ on_line 7 (Apply (RemoveLines (OfRule None (codes "$(q:;=|)")))) ∷ on_line 8 (Apply (AddLine Bottom (NewAssign (codes "A") Simple (codes "${g(}")))) ∷ [])) ∷  -- random-466
    (codes "undo\nnth 000 \"assign\" after-var -x_9 ifdef \"+=\" \"$(q:;=|) $(q:;=|)\"\nredo", Ok (on_line 1 Undo ∷ on_line 2 (Apply (AddLine (AfterVar (Some 0) (codes "-x_9")) (NewAssign (codes "ifdef") Append (codes "$(q:;=|) $(q:;=|)")))) ∷ on_line 3 Redo ∷ [])) ∷  -- random-467
    (codes "assign before-rule %.c define = \"\"\r\nundepend  -include2  \"foo\"\r\nrule \"before-var\" define $(s\\) : \"\"\r\nrecipe-set \"foo\" 0 \"$(\"\r\nappend define $$\r\n", Ok (on_line 1 (Apply (AddLine (BeforeRule None (codes "%.c")) (NewAssign (codes "define") Recursive []))) ∷ on_line 2 (Apply (ChangePrereqs None (codes "-include2") (RemovePrereq (codes "foo")))) ∷ on_line 3 (Apply (AddLine (BeforeVar None (codes "define")) (NewRule (codes "$(s\\)") Single []))) ∷ on_line 4 (Apply (SetRecipe None (codes "foo") (ByNumber 0) (codes "$("))) ∷ on_line 5 (Apply (ChangeValue (One None) (codes "define") (edits.Append (codes "$$")))) ∷ [])) ∷  -- random-468
    (codes "unrule -include2\r\n\"nth\" 1 rule before-rule -include2 \"\" :: t\r\nredo\r\nset\tt1\t\"; $(s\\\\)\"\r\nundo\r\nredo\r\n\"assign\" bottom define \"=\" \"\"\r\n", Ok (on_line 1 (Apply (RemoveLines (OfRule None (codes "-include2")))) ∷ on_line 2 (Apply (AddLine (BeforeRule (Some 1) (codes "-include2")) (NewRule [] Double (codes "t")))) ∷ on_line 3 Redo ∷ on_line 4 (Apply (ChangeValue (One None) (codes "t1") (edits.Set (codes "; $(s\\)")))) ∷ on_line 5 Undo ∷ on_line 6 Redo ∷ on_line 7 (Apply (AddLine Bottom (NewAssign (codes "define") Recursive []))) ∷ [])) ∷  -- random-469
    (codes "\"recipe-del\"  x.o  0\n", Ok (on_line 1 (Apply (RemoveLines (OfRecipe None (codes "x.o") (ByNumber 0)))) ∷ [])) ∷  -- random-470
    (codes "begin\r\nassign bottom CC :::= c\r\nassign bottom a.b += \"b\"\r\nundo\r\nassign  bottom  t1  =  \"\"\r\nrule  \"bottom\"  $x  :  \"\"\r\nundo\r\nrule bottom \"x.o\" : %.o\r\n", Ok (on_line 1 Begin ∷ on_line 2 (Apply (AddLine Bottom (NewAssign (codes "CC") Immediate (codes "c")))) ∷ on_line 3 (Apply (AddLine Bottom (NewAssign (codes "a.b") Append (codes "b")))) ∷ on_line 4 Undo ∷ on_line 5 (Apply (AddLine Bottom (NewAssign (codes "t1") Recursive []))) ∷ on_line 6 (Apply (AddLine Bottom (NewRule (codes "$x") Single []))) ∷ on_line 7 Undo ∷ on_line 8 (Apply (AddLine Bottom (NewRule (codes "x.o") Single (codes "%.o")))) ∷ [])) ∷  -- random-471
    (codes "\"nth\" \"0\" \"set\" Y \\$x\nredo\n nth \"4294967295\" unset \"Y\"\nrule\tbefore-rule\tt\t\"\"\t::\t\"$(p #) $(q:;=|)\"\nnth 4294967295 assign \"after-var\" Y override := \"\"", Ok (on_line 1 (Apply (ChangeValue (One (Some 0)) (codes "Y") (edits.Set (codes "\\$x")))) ∷ on_line 2 Redo ∷ on_line 3 (Apply (RemoveLines (OfAssign (Some 4294967295) (codes "Y")))) ∷ on_line 4 (Apply (AddLine (BeforeRule None (codes "t")) (NewRule [] Double (codes "$(p #) $(q:;=|)")))) ∷ on_line 5 (Apply (AddLine (AfterVar (Some 4294967295) (codes "Y")) (NewAssign (codes "override") Simple []))) ∷ [])) ∷  -- random-472
    (codes "undepend  $$  ${c}\n\"recipe-del\" $$ \"2\"\nunrule \"$$\"\nredo\nnth 000 \"set\" ifdef \"$(f {) $$\"\nend\n rename \"$(f {)\" foo\n\"nth\" 1 \"set\" ifdef \"%.o $x\"\n", Ok (on_line 1 (Apply (ChangePrereqs None (codes "$$") (RemovePrereq (codes "${c}")))) ∷ on_line 2 (Apply (RemoveLines (OfRecipe None (codes "$$") (ByNumber 2)))) ∷ on_line 3 (Apply (RemoveLines (OfRule None (codes "$$")))) ∷ on_line 4 Redo ∷ on_line 5 (Apply (ChangeValue (One (Some 0)) (codes "ifdef") (edits.Set (codes "$(f {) $$")))) ∷ on_line 6 End ∷ on_line 7 (Apply (RenameTarget (codes "$(f {)") (codes "foo"))) ∷ on_line 8 (Apply (ChangeValue (One (Some 1)) (codes "ifdef") (edits.Set (codes "%.o $x")))) ∷ [])) ∷  -- random-473
    (codes "append \"Y\" \"1 $$\"\n", Ok (on_line 1 (Apply (ChangeValue (One None) (codes "Y") (edits.Append (codes "1 $$")))) ∷ [])) ∷  -- random-474
    (codes "depend-order a $$\nassign after-var >endef >q += ${c}", Ok (on_line 1 (Apply (ChangePrereqs None (codes "a") (AddPrereq true (codes "$$")))) ∷ on_line 2 (Apply (AddLine (AfterVar None (codes ">endef")) (NewAssign (codes ">q") Append (codes "${c}")))) ∷ [])) ∷  -- random-475
    (codes "undepend \"$$\" t\nredo\nrecipe-del %.o 2\nredo\n\"rule\" bottom x.o : \"\"\n \"undepend\" \"x.o\" $$\nunrule x.o\nrule bottom a&b :: \"$(a b)\"\nnth 0 unrule &\nrecipe \"a&b\" >", Ok (on_line 1 (Apply (ChangePrereqs None (codes "$$") (RemovePrereq (codes "t")))) ∷ on_line 2 Redo ∷ on_line 3 (Apply (RemoveLines (OfRecipe None (codes "%.o") (ByNumber 2)))) ∷ on_line 4 Redo ∷ on_line 5 (Apply (AddLine Bottom (NewRule (codes "x.o") Single []))) ∷ on_line 6 (Apply (ChangePrereqs None (codes "x.o") (RemovePrereq (codes "$$")))) ∷ on_line 7 (Apply (RemoveLines (OfRule None (codes "x.o")))) ∷ on_line 8 (Apply (AddLine Bottom (NewRule (codes "a&b") Double (codes "$(a b)")))) ∷ on_line 9 (Apply (RemoveLines (OfRule (Some 0) (codes "&")))) ∷ on_line 10 (Apply (AddRecipe None (codes "a&b") Last (codes ">"))) ∷ [])) ∷  -- random-476
    (codes "rule bottom a&b : \"$(p #)\"\nundo\nundepend Ã© $$\nappend \"X\" \"$(f {) %.c\"\n\"rule\" bottom ${c} :: b\n", Ok (on_line 1 (Apply (AddLine Bottom (NewRule (codes "a&b") Single (codes "$(p #)")))) ∷ on_line 2 Undo ∷ on_line 3 (Apply (ChangePrereqs None (codes "Ã©") (RemovePrereq (codes "$$")))) ∷ on_line 4 (Apply (ChangeValue (One None) (codes "X") (edits.Append (codes "$(f {) %.c")))) ∷ on_line 5 (Apply (AddLine Bottom (NewRule (codes "${c}") Double (codes "b")))) ∷ [])) ∷  -- random-477
    (codes "nth \"1\" rule before-var -x_9 $x : \"x.o\"\nundepend\t\"$x\"\t\"x.o\"\n", Ok (on_line 1 (Apply (AddLine (BeforeVar (Some 1) (codes "-x_9")) (NewRule (codes "$x") Single (codes "x.o")))) ∷ on_line 2 (Apply (ChangePrereqs None (codes "$x") (RemovePrereq (codes "x.o")))) ∷ [])) ∷  -- random-478
    (codes "end\nbegin\nset .RECIPEPREFIX \"\\\\# t\"\nassign\tbottom\t\"override\"\t=\t\"\"\nassign after-var .RECIPEPREFIX CC :::= :\nappend .RECIPEPREFIX \"1 =\"\nrule bottom \"b \\\\#\" :: t\nunset\t\".RECIPEPREFIX\"\nnth  0  set  \"override\"  \"$(s\\\\) a&b\"\n\"nth\"\t\"2\"\tassign\tafter-var\t\"override\"\ta.b\t:=\t\"-include2 %.o\"\n append override \"\"\nundo\n", Ok (on_line 1 End ∷ on_line 2 Begin ∷ on_line 3 (Apply (ChangeValue (One None) (codes ".RECIPEPREFIX") (edits.Set (codes "\\# t")))) ∷ on_line 4 (Apply (AddLine Bottom (NewAssign (codes "override") Recursive []))) ∷ on_line 5 (Apply (AddLine (AfterVar None (codes ".RECIPEPREFIX")) (NewAssign (codes "CC") Immediate (codes ":")))) ∷ on_line 6 (Apply (ChangeValue (One None) (codes ".RECIPEPREFIX") (edits.Append (codes "1 =")))) ∷ on_line 7 (Apply (AddLine Bottom (NewRule (codes "b \\#") Double (codes "t")))) ∷ on_line 8 (Apply (RemoveLines (OfAssign None (codes ".RECIPEPREFIX")))) ∷ on_line 9 (Apply (ChangeValue (One (Some 0)) (codes "override") (edits.Set (codes "$(s\\) a&b")))) ∷ on_line 10 (Apply (AddLine (AfterVar (Some 2) (codes "override")) (NewAssign (codes "a.b") Simple (codes "-include2 %.o")))) ∷ on_line 11 (Apply (ChangeValue (One None) (codes "override") (edits.Append []))) ∷ on_line 12 Undo ∷ [])) ∷  -- random-479
    (codes "rename a \"b\"\r\nundepend \"foo\" %.o\r\n \"depend-order\"  foo  $$\r\nrename\t\"$(p #)\"\t$$\r\nnth 1 append .RECIPEPREFIX \"2 3 \\\\#\"\r\nrule after-var .RECIPEPREFIX c : \"\"\r\nredo\r\n \"nth\"  \"1\"  \"set\"  .RECIPEPREFIX  $x\r\ndepend $$ c\r\nnth 1 \"undepend\" foo $$\r\n", Ok (on_line 1 (Apply (RenameTarget (codes "a") (codes "b"))) ∷ on_line 2 (Apply (ChangePrereqs None (codes "foo") (RemovePrereq (codes "%.o")))) ∷ on_line 3 (Apply (ChangePrereqs None (codes "foo") (AddPrereq true (codes "$$")))) ∷ on_line 4 (Apply (RenameTarget (codes "$(p #)") (codes "$$"))) ∷ on_line 5 (Apply (ChangeValue (One (Some 1)) (codes ".RECIPEPREFIX") (edits.Append (codes "2 3 \\#")))) ∷ on_line 6 (Apply (AddLine (AfterVar None (codes ".RECIPEPREFIX")) (NewRule (codes "c") Single []))) ∷ on_line 7 Redo ∷ on_line 8 (Apply (ChangeValue (One (Some 1)) (codes ".RECIPEPREFIX") (edits.Set (codes "$x")))) ∷ on_line 9 (Apply (ChangePrereqs None (codes "$$") (AddPrereq false (codes "c")))) ∷ on_line 10 (Apply (ChangePrereqs (Some 1) (codes "foo") (RemovePrereq (codes "$$")))) ∷ [])) ∷  -- random-481
    (codes " recipe-set ta 1 \"\"\nnth 0 recipe-del %.o 2\n \"unset\"\tendef\nnth  001  undepend  \"ta\"  \"$(a b)\"\nunrule t\nrule  \"before-rule\"  %.o  \"t\"  ::  \"\"\nrecipe\t%.o\t\"e f \\\\ g\"\nnth \"2\" assign before-rule \\# -x_9 ?= a\\:b\n depend ta %.c", Ok (on_line 1 (Apply (SetRecipe None (codes "ta") (ByNumber 1) [])) ∷ on_line 2 (Apply (RemoveLines (OfRecipe (Some 0) (codes "%.o") (ByNumber 2)))) ∷ on_line 3 (Apply (RemoveLines (OfAssign None (codes "endef")))) ∷ on_line 4 (Apply (ChangePrereqs (Some 1) (codes "ta") (RemovePrereq (codes "$(a b)")))) ∷ on_line 5 (Apply (RemoveLines (OfRule None (codes "t")))) ∷ on_line 6 (Apply (AddLine (BeforeRule None (codes "%.o")) (NewRule (codes "t") Double []))) ∷ on_line 7 (Apply (AddRecipe None (codes "%.o") Last (codes "e f \\ g"))) ∷ on_line 8 (Apply (AddLine (BeforeRule (Some 2) (codes "\\#")) (NewAssign (codes "-x_9") Conditional (codes "a\\:b")))) ∷ on_line 9 (Apply (ChangePrereqs None (codes "ta") (AddPrereq false (codes "%.c")))) ∷ [])) ∷  -- random-482
    (codes "nth 2 \"recipe-del\" \"y\" 1\nrule before-rule x.o \"\" : \"$(s\\\\) $(f {)\"\nrename %.o b", Ok (on_line 1 (Apply (RemoveLines (OfRecipe (Some 2) (codes "y") (ByNumber 1)))) ∷ on_line 2 (Apply (AddLine (BeforeRule None (codes "x.o")) (NewRule [] Single (codes "$(s\\) $(f {)")))) ∷ on_line 3 (Apply (RenameTarget (codes "%.o") (codes "b"))) ∷ [])) ∷  -- random-483
    (codes "redo\nredo\n", Ok (on_line 1 Redo ∷ on_line 2 Redo ∷ [])) ∷  -- random-485
    (codes "rename\t$$\t\"$(a b)\"\nassign before-rule ${c} Y \"::=\" \"\"\nassign\tbefore-var\t\"CC\"\tifdef\t!=\t\"\"\nundo", Ok (on_line 1 (Apply (RenameTarget (codes "$$") (codes "$(a b)"))) ∷ on_line 2 (Apply (AddLine (BeforeRule None (codes "${c}")) (NewAssign (codes "Y") PosixSimple []))) ∷ on_line 3 (Apply (AddLine (BeforeVar None (codes "CC")) (NewAssign (codes "ifdef") Shell []))) ∷ on_line 4 Undo ∷ [])) ∷  -- random-487
    (codes " assign\t\"before-var\"\t.RECIPEPREFIX\t\"endef\"\t+=\t\"b\"\r\nrename  $(s\\)  ${c}\r\nnth \"1\" assign before-var .RECIPEPREFIX e != \"$# 2 3\"\r\nrule bottom \"\" \"::\" $$\r\n set a\\= \"$(s\\\\) :\"\r\nunset \".RECIPEPREFIX\"\r\n", Ok (on_line 1 (Apply (AddLine (BeforeVar None (codes ".RECIPEPREFIX")) (NewAssign (codes "endef") Append (codes "b")))) ∷ on_line 2 (Apply (RenameTarget (codes "$(s\\)") (codes "${c}"))) ∷ on_line 3 (Apply (AddLine (BeforeVar (Some 1) (codes ".RECIPEPREFIX")) (NewAssign (codes "e") Shell (codes "$# 2 3")))) ∷ on_line 4 (Apply (AddLine Bottom (NewRule [] Double (codes "$$")))) ∷ on_line 5 (Apply (ChangeValue (One None) (codes "a\\=") (edits.Set (codes "$(s\\) :")))) ∷ on_line 6 (Apply (RemoveLines (OfAssign None (codes ".RECIPEPREFIX")))) ∷ [])) ∷  -- random-488
    (codes "depend b a\r\nbegin\r\n nth 002 recipe -include2 q:=1\r\n", Ok (on_line 1 (Apply (ChangePrereqs None (codes "b") (AddPrereq false (codes "a")))) ∷ on_line 2 Begin ∷ on_line 3 (Apply (AddRecipe (Some 2) (codes "-include2") Last (codes "q:=1"))) ∷ [])) ∷  -- random-489
    (codes "\"nth\" 4294967295 undepend b $(q:;=|)\nrecipe \"b\" \" a\"\nrename c $(s\\)\nredo\ncancel\n\"append\" .RECIPEPREFIX $#\nrename %.o \"a\"\n", Ok (on_line 1 (Apply (ChangePrereqs (Some 4294967295) (codes "b") (RemovePrereq (codes "$(q:;=|)")))) ∷ on_line 2 (Apply (AddRecipe None (codes "b") Last (codes " a"))) ∷ on_line 3 (Apply (RenameTarget (codes "c") (codes "$(s\\)"))) ∷ on_line 4 Redo ∷ on_line 5 Cancel ∷ on_line 6 (Apply (ChangeValue (One None) (codes ".RECIPEPREFIX") (edits.Append (codes "$#")))) ∷ on_line 7 (Apply (RenameTarget (codes "%.o") (codes "a"))) ∷ [])) ∷  -- random-490
    (codes "undo\nnth\t002\trule\tafter-var\t\"override\"\tx.o\t\":\"\t\"-include2 foo\"\nnth 000 unrule $$\nredo\n\"set\" -x_9 t\nundo", Ok (on_line 1 Undo ∷ on_line 2 (Apply (AddLine (AfterVar (Some 2) (codes "override")) (NewRule (codes "x.o") Single (codes "-include2 foo")))) ∷ on_line 3 (Apply (RemoveLines (OfRule (Some 0) (codes "$$")))) ∷ on_line 4 Redo ∷ on_line 5 (Apply (ChangeValue (One None) (codes "-x_9") (edits.Set (codes "t")))) ∷ on_line 6 Undo ∷ [])) ∷  -- random-491
    (codes "begin\r\n\"set\" .RECIPEPREFIX \"\"\r\n nth 4294967295 append .RECIPEPREFIX \"a&b |\"\r\n", Ok (on_line 1 Begin ∷ on_line 2 (Apply (ChangeValue (One None) (codes ".RECIPEPREFIX") (edits.Set []))) ∷ on_line 3 (Apply (ChangeValue (One (Some 4294967295)) (codes ".RECIPEPREFIX") (edits.Append (codes "a&b |")))) ∷ [])) ∷  -- random-492
    (codes "nth 2 depend-order $(s\\) \"$ \"\nrecipe-del $(s\\) 4294967295\nrecipe-del $(s\\) 000\nundepend $(s\\) \"$(f {)\"\nrecipe-del $(s\\) 002\nrule before-rule $(s\\) b& \":\" \"\"\nrename $(s\\) x.o\n\"rename\"  x.o  $;\n", Ok (on_line 1 (Apply (ChangePrereqs (Some 2) (codes "$(s\\)") (AddPrereq true (codes "$ ")))) ∷ on_line 2 (Apply (RemoveLines (OfRecipe None (codes "$(s\\)") (ByNumber 4294967295)))) ∷ on_line 3 (Apply (RemoveLines (OfRecipe None (codes "$(s\\)") (ByNumber 0)))) ∷ on_line 4 (Apply (ChangePrereqs None (codes "$(s\\)") (RemovePrereq (codes "$(f {)")))) ∷ on_line 5 (Apply (RemoveLines (OfRecipe None (codes "$(s\\)") (ByNumber 2)))) ∷ on_line 6 (Apply (AddLine (BeforeRule None (codes "$(s\\)")) (NewRule (codes "b&") Single []))) ∷ on_line 7 (Apply (RenameTarget (codes "$(s\\)") (codes "x.o"))) ∷ on_line 8 (Apply (RenameTarget (codes "x.o") (codes "$;"))) ∷ [])) ∷  -- random-493
    (codes "rule bottom %.o : \"|d ${c}\"\r\n", Ok (on_line 1 (Apply (AddLine Bottom (NewRule (codes "%.o") Single (codes "|d ${c}")))) ∷ [])) ∷  -- random-494
    (codes "end\n\"assign\" bottom >q = \"-include2\"\nundo\nundo\nassign bottom Y ?= -include2\nundo", Ok (on_line 1 End ∷ on_line 2 (Apply (AddLine Bottom (NewAssign (codes ">q") Recursive (codes "-include2")))) ∷ on_line 3 Undo ∷ on_line 4 Undo ∷ on_line 5 (Apply (AddLine Bottom (NewAssign (codes "Y") Conditional (codes "-include2")))) ∷ on_line 6 Undo ∷ [])) ∷  -- random-495
    (codes "begin\n\"rename\" $(u c\nassign  before-var  RECIPEPREFIX  \"-x_9\"  :::=  \"\"\nredo\nassign\tafter-var\tA\tdefine\t:=\t.PHONY\n", Ok (on_line 1 Begin ∷ on_line 2 (Apply (RenameTarget (codes "$(u") (codes "c"))) ∷ on_line 3 (Apply (AddLine (BeforeVar None (codes "RECIPEPREFIX")) (NewAssign (codes "-x_9") Immediate []))) ∷ on_line 4 Redo ∷ on_line 5 (Apply (AddLine (AfterVar None (codes "A")) (NewAssign (codes "define") Simple (codes ".PHONY")))) ∷ [])) ∷  -- random-496
    (codes "\"rename\" \"a\" \"${g(}\"\r\n\"recipe\" \"b\" \"y # z\"\r\nrule bottom $$ : \"%.o foo\"\r\nundo\r\nrename b \"$(f {)\"\r\nrule bottom \"$(f {)\" :: a&b\r\n unset CC\r\nrecipe b \"q:=1\"\r\n\"rename\" \"$(f {)\" ${c}\r\n\"recipe\" \"t\" \"\"\r\n", Ok (on_line 1 (Apply (RenameTarget (codes "a") (codes "${g(}"))) ∷ on_line 2 (Apply (AddRecipe None (codes "b") Last (codes "y # z"))) ∷ on_line 3 (Apply (AddLine Bottom (NewRule (codes "$$") Single (codes "%.o foo")))) ∷ on_line 4 Undo ∷ on_line 5 (Apply (RenameTarget (codes "b") (codes "$(f {)"))) ∷ on_line 6 (Apply (AddLine Bottom (NewRule (codes "$(f {)") Double (codes "a&b")))) ∷ on_line 7 (Apply (RemoveLines (OfAssign None (codes "CC")))) ∷ on_line 8 (Apply (AddRecipe None (codes "b") Last (codes "q:=1"))) ∷ on_line 9 (Apply (RenameTarget (codes "$(f {)") (codes "${c}"))) ∷ on_line 10 (Apply (AddRecipe None (codes "t") Last [])) ∷ [])) ∷  -- random-497
    []

answers_9 : map (λ row. read_script row.0) rows_9 ≡ map (λ row. row.1) rows_9
unfolding line_len lines_from
answers_9 = refl

abbrev rows_10 : List (List ℕ × Result (List Step) ℕ)
rows_10 =
    (codes "recipe-del a -1\nnth 0 unrule \"$(p #)\"\nunset A\nundo", Err 1) ∷  -- random-498
    (codes "redo\r\n \"rule\"\tafter-var\t.RECIPEPREFIX\t\"\"\t::\t\"$(f {) %.c\"\r\nunset \"A\"\r\nassign bottom t1 += \";\"\r\nnth \"000\" assign before-var .RECIPEPREFIX t1 ::= \"2 3 =\"\r\nappend a.b \"$(a b)\"\r\nnth 1 set .RECIPEPREFIX \"\"\r\nredo\r\nredo\r\n", Ok (on_line 1 Redo ∷ on_line 2 (Apply (AddLine (AfterVar None (codes ".RECIPEPREFIX")) (NewRule [] Double (codes "$(f {) %.c")))) ∷ on_line 3 (Apply (RemoveLines (OfAssign None (codes "A")))) ∷ on_line 4 (Apply (AddLine Bottom (NewAssign (codes "t1") Append (codes ";")))) ∷ on_line 5 (Apply (AddLine (BeforeVar (Some 0) (codes ".RECIPEPREFIX")) (NewAssign (codes "t1") PosixSimple (codes "2 3 =")))) ∷ on_line 6 (Apply (ChangeValue (One None) (codes "a.b") (edits.Append (codes "$(a b)")))) ∷ on_line 7 (Apply (ChangeValue (One (Some 1)) (codes ".RECIPEPREFIX") (edits.Set []))) ∷ on_line 8 Redo ∷ on_line 9 Redo ∷ [])) ∷  -- random-500
    (codes "redo\nassign before-rule %.o ifdef := \"| %.c\"\nrule \"bottom\" \"\" :: \"\"\n\"rename\" $x $(s\\)\nappend ifdef \";\"\nset ifdef $x\n \"rename\" $(s\\) %.c\n\"rename\" %.c -include2\nnth \"0\" \"set\" ifdef $x\nassign before-rule %.o e ?= \"\"\nnth 4294967295 append \"ifdef\" \"\\\\#\"\nbegin", Ok (on_line 1 Redo ∷ on_line 2 (Apply (AddLine (BeforeRule None (codes "%.o")) (NewAssign (codes "ifdef") Simple (codes "| %.c")))) ∷ on_line 3 (Apply (AddLine Bottom (NewRule [] Double []))) ∷ on_line 4 (Apply (RenameTarget (codes "$x") (codes "$(s\\)"))) ∷ on_line 5 (Apply (ChangeValue (One None) (codes "ifdef") (edits.Append (codes ";")))) ∷ on_line 6 (Apply (ChangeValue (One None) (codes "ifdef") (edits.Set (codes "$x")))) ∷ on_line 7 (Apply (RenameTarget (codes "$(s\\)") (codes "%.c"))) ∷ on_line 8 (Apply (RenameTarget (codes "%.c") (codes "-include2"))) ∷ on_line 9 (Apply (ChangeValue (One (Some 0)) (codes "ifdef") (edits.Set (codes "$x")))) ∷ on_line 10 (Apply (AddLine (BeforeRule None (codes "%.o")) (NewAssign (codes "e") Conditional []))) ∷ on_line 11 (Apply (ChangeValue (One (Some 4294967295)) (codes "ifdef") (edits.Append (codes "\\#")))) ∷ on_line 12 Begin ∷ [])) ∷  -- random-501
    (codes "nth 2 set X a\nrule bottom -include2 :: \"\"\nundo\nrule\tbottom\ta\t::\tb\nset A |\nrecipe a \"y # z\"\nredo\nredo\n recipe-del a 0\ndepend \"$(a b)\" b\n", Ok (on_line 1 (Apply (ChangeValue (One (Some 2)) (codes "X") (edits.Set (codes "a")))) ∷ on_line 2 (Apply (AddLine Bottom (NewRule (codes "-include2") Double []))) ∷ on_line 3 Undo ∷ on_line 4 (Apply (AddLine Bottom (NewRule (codes "a") Double (codes "b")))) ∷ on_line 5 (Apply (ChangeValue (One None) (codes "A") (edits.Set (codes "|")))) ∷ on_line 6 (Apply (AddRecipe None (codes "a") Last (codes "y # z"))) ∷ on_line 7 Redo ∷ on_line 8 Redo ∷ on_line 9 (Apply (RemoveLines (OfRecipe None (codes "a") (ByNumber 0)))) ∷ on_line 10 (Apply (ChangePrereqs None (codes "$(a b)") (AddPrereq false (codes "b")))) ∷ [])) ∷  -- random-504
    (codes "assign bottom \"t\" :::= \"\\\\$x x.o\"\r\nappend \\#x \"b $(q:;=|)\"\r\nunset  \"t\"\r\nassign bottom define :::= a\\:b\r\nappend  \"define\"  \"\\\\$x\"\r\nset define \"1 =\"\r\nnth 2 \"append\" define \"\"\r\nassign\tbefore-var\tdefine\tCC\t?=\t\"t\"\r\n\"set\" CC \"; b\"\r\n", Ok (on_line 1 (Apply (AddLine Bottom (NewAssign (codes "t") Immediate (codes "\\$x x.o")))) ∷ on_line 2 (Apply (ChangeValue (One None) (codes "\\#x") (edits.Append (codes "b $(q:;=|)")))) ∷ on_line 3 (Apply (RemoveLines (OfAssign None (codes "t")))) ∷ on_line 4 (Apply (AddLine Bottom (NewAssign (codes "define") Immediate (codes "a\\:b")))) ∷ on_line 5 (Apply (ChangeValue (One None) (codes "define") (edits.Append (codes "\\$x")))) ∷ on_line 6 (Apply (ChangeValue (One None) (codes "define") (edits.Set (codes "1 =")))) ∷ on_line 7 (Apply (ChangeValue (One (Some 2)) (codes "define") (edits.Append []))) ∷ on_line 8 (Apply (AddLine (BeforeVar None (codes "define")) (NewAssign (codes "CC") Conditional (codes "t")))) ∷ on_line 9 (Apply (ChangeValue (One None) (codes "CC") (edits.Set (codes "; b")))) ∷ [])) ∷  -- random-505
    (codes "rename\t\"$x\"\ta\n\"unrule\"  $x\nrule \"bottom\" \"\" :: \"\"\n\"rule\" bottom \"$(p #)\" \"::\" \"foo $(a b)\"\nend\nundo\nassign  bottom  \"endef\"  :::=  \"\"\nredo\nrule bottom .PHONY :: ${c}\nnth \"0\" \"unset\" \"endef\"\n", Ok (on_line 1 (Apply (RenameTarget (codes "$x") (codes "a"))) ∷ on_line 2 (Apply (RemoveLines (OfRule None (codes "$x")))) ∷ on_line 3 (Apply (AddLine Bottom (NewRule [] Double []))) ∷ on_line 4 (Apply (AddLine Bottom (NewRule (codes "$(p #)") Double (codes "foo $(a b)")))) ∷ on_line 5 End ∷ on_line 6 Undo ∷ on_line 7 (Apply (AddLine Bottom (NewAssign (codes "endef") Immediate []))) ∷ on_line 8 Redo ∷ on_line 9 (Apply (AddLine Bottom (NewRule (codes ".PHONY") Double (codes "${c}")))) ∷ on_line 10 (Apply (RemoveLines (OfAssign (Some 0) (codes "endef")))) ∷ [])) ∷  -- random-506
    (codes "redo\r\n", Ok (on_line 1 Redo ∷ [])) ∷  -- random-507
    (codes "assign  before-rule  $(s\\)  define  ?=  b\r\nredo\r\nset Y foo\r\nnth \"2\" recipe-set $(q:;=|) \"2\" \"\tb\"\r\n\"recipe-set\" $(q:;=|) \"1\" $(\r\n\"recipe-del\"\t$(q:;=|)\t2\r\nredo\r\nundo\r\nbegin\r\nunrule \"$(q:;=|)\"\r\nredo", Ok (on_line 1 (Apply (AddLine (BeforeRule None (codes "$(s\\)")) (NewAssign (codes "define") Conditional (codes "b")))) ∷ on_line 2 Redo ∷ on_line 3 (Apply (ChangeValue (One None) (codes "Y") (edits.Set (codes "foo")))) ∷ on_line 4 (Apply (SetRecipe (Some 2) (codes "$(q:;=|)") (ByNumber 2) (codes "\tb"))) ∷ on_line 5 (Apply (SetRecipe None (codes "$(q:;=|)") (ByNumber 1) (codes "$("))) ∷ on_line 6 (Apply (RemoveLines (OfRecipe None (codes "$(q:;=|)") (ByNumber 2)))) ∷ on_line 7 Redo ∷ on_line 8 Undo ∷ on_line 9 Begin ∷ on_line 10 (Apply (RemoveLines (OfRule None (codes "$(q:;=|)")))) ∷ on_line 11 Redo ∷ [])) ∷  -- random-508
    (codes "undepend\t\"$(q:;=|)\"\t\"$(a b)\"\nrecipe-set y \"2\" \"y # z\"\n\"recipe\"  $(q:;=|)  >\n", Ok (on_line 1 (Apply (ChangePrereqs None (codes "$(q:;=|)") (RemovePrereq (codes "$(a b)")))) ∷ on_line 2 (Apply (SetRecipe None (codes "y") (ByNumber 2) (codes "y # z"))) ∷ on_line 3 (Apply (AddRecipe None (codes "$(q:;=|)") Last (codes ">"))) ∷ [])) ∷  -- random-510
    (codes " \"nth\" 000 append .RECIPEPREFIX %.o\r\nundo\r\n \"nth\" 4294967295 \"recipe\" x.o q:=1\r\nrule before-rule y \"\" : \"\"\r\n\"unset\" CC\r\nnth 4294967295 rule before-rule y \"\" :: \"\"\r\n", Ok (on_line 1 (Apply (ChangeValue (One (Some 0)) (codes ".RECIPEPREFIX") (edits.Append (codes "%.o")))) ∷ on_line 2 Undo ∷ on_line 3 (Apply (AddRecipe (Some 4294967295) (codes "x.o") Last (codes "q:=1"))) ∷ on_line 4 (Apply (AddLine (BeforeRule None (codes "y")) (NewRule [] Single []))) ∷ on_line 5 (Apply (RemoveLines (OfAssign None (codes "CC")))) ∷ on_line 6 (Apply (AddLine (BeforeRule (Some 4294967295) (codes "y")) (NewRule [] Double []))) ∷ [])) ∷  -- random-511
    (codes "unrule\tfoo\r\nset endef \"= $x\"\r\nredo\r\nundo\r\nrecipe \"$(a b)\" \"y # z\"\r\nnth 4294967295 append endef a&b\r\nset endef \"\"\r\n", Ok (on_line 1 (Apply (RemoveLines (OfRule None (codes "foo")))) ∷ on_line 2 (Apply (ChangeValue (One None) (codes "endef") (edits.Set (codes "= $x")))) ∷ on_line 3 Redo ∷ on_line 4 Undo ∷ on_line 5 (Apply (AddRecipe None (codes "$(a b)") Last (codes "y # z"))) ∷ on_line 6 (Apply (ChangeValue (One (Some 4294967295)) (codes "endef") (edits.Append (codes "a&b")))) ∷ on_line 7 (Apply (ChangeValue (One None) (codes "endef") (edits.Set []))) ∷ [])) ∷  -- random-512
    (codes "redo\nassign before-var \".RECIPEPREFIX\" t = %.o\nundo\nset X 1 2\nrule before-var .RECIPEPREFIX \"$(s\\\\) c\" :: \"a&b a&b\"\nset .RECIPEPREFIX a\nnth 2 \"append\" \".RECIPEPREFIX\" \"$(a b) foo\"\n", Err 4) ∷  -- random-513
    (codes "begin\r\nundo\r\nset \".RECIPEPREFIX\" ;\r\nappend .RECIPEPREFIX -include2\r\nredo\r\nunset .RECIPEPREFIX\r\n\"rule\" before-var .RECIPEPREFIX \"b -include2\" : $x\r\n", Ok (on_line 1 Begin ∷ on_line 2 Undo ∷ on_line 3 (Apply (ChangeValue (One None) (codes ".RECIPEPREFIX") (edits.Set (codes ";")))) ∷ on_line 4 (Apply (ChangeValue (One None) (codes ".RECIPEPREFIX") (edits.Append (codes "-include2")))) ∷ on_line 5 Redo ∷ on_line 6 (Apply (RemoveLines (OfAssign None (codes ".RECIPEPREFIX")))) ∷ on_line 7 (Apply (AddLine (BeforeVar None (codes ".RECIPEPREFIX")) (NewRule (codes "b -include2") Single (codes "$x")))) ∷ [])) ∷  -- random-514
    (codes "nth 1 set \"Y!\" \"${g(}\"\r\nrecipe-set \">${c}\" 001 \">\"\r\nredo\r\n set  endef  \"b :\"\r\nundo\r\nassign after-var Y! \"endef\" += \"\"\r\n", Ok (on_line 1 (Apply (ChangeValue (One (Some 1)) (codes "Y!") (edits.Set (codes "${g(}")))) ∷ on_line 2 (Apply (SetRecipe None (codes ">${c}") (ByNumber 1) (codes ">"))) ∷ on_line 3 Redo ∷ on_line 4 (Apply (ChangeValue (One None) (codes "endef") (edits.Set (codes "b :")))) ∷ on_line 5 Undo ∷ on_line 6 (Apply (AddLine (AfterVar None (codes "Y!")) (NewAssign (codes "endef") Append []))) ∷ [])) ∷  -- random-515
    (codes "recipe-set  y  1  \"\tb\"", Ok (on_line 1 (Apply (SetRecipe None (codes "y") (ByNumber 1) (codes "\tb"))) ∷ [])) ∷  -- random-516
    (codes "undo\nset .RECIPEPREFIX \"\"\nend\nset .RECIPEPREFIX $(q:;=|)\nnth\t\"001\"\tunset\t.RECIPEPREFIX\nunset .RECIPEPREFIX\nappend\t.RECIPEPREFIX\t$x\n\"set\"\t.RECIPEPREFIX\t%.o\nappend \".RECIPEPREFIX\" \"\"\nset  \".RECIPEPREFIX\"  .PHONY\n\"nth\" 2 unset \".RECIPEPREFIX\"\n", Ok (on_line 1 Undo ∷ on_line 2 (Apply (ChangeValue (One None) (codes ".RECIPEPREFIX") (edits.Set []))) ∷ on_line 3 End ∷ on_line 4 (Apply (ChangeValue (One None) (codes ".RECIPEPREFIX") (edits.Set (codes "$(q:;=|)")))) ∷ on_line 5 (Apply (RemoveLines (OfAssign (Some 1) (codes ".RECIPEPREFIX")))) ∷ on_line 6 (Apply (RemoveLines (OfAssign None (codes ".RECIPEPREFIX")))) ∷ on_line 7 (Apply (ChangeValue (One None) (codes ".RECIPEPREFIX") (edits.Append (codes "$x")))) ∷ on_line 8 (Apply (ChangeValue (One None) (codes ".RECIPEPREFIX") (edits.Set (codes "%.o")))) ∷ on_line 9 (Apply (ChangeValue (One None) (codes ".RECIPEPREFIX") (edits.Append []))) ∷ on_line 10 (Apply (ChangeValue (One None) (codes ".RECIPEPREFIX") (edits.Set (codes ".PHONY")))) ∷ on_line 11 (Apply (RemoveLines (OfAssign (Some 2) (codes ".RECIPEPREFIX")))) ∷ [])) ∷  -- random-517
    (codes "\"append\" $(X) foo\n\"rule\"  before-var  >q  foo  ::  \"$(a b) $(a b)\"\nnth\t000\trule\tbefore-var\t>q\t-include2\t\":\"\t\"\"\nbegin\nset endef ;\nredo\n\"unset\" >q\nrule \"after-var\" >q \"%.o\" :: .PHONY\nset \">q\" \"\"\n nth 0 rule before-var CC ${c} : \"$x a&b\"\n", Ok (on_line 1 (Apply (ChangeValue (One None) (codes "$(X)") (edits.Append (codes "foo")))) ∷ on_line 2 (Apply (AddLine (BeforeVar None (codes ">q")) (NewRule (codes "foo") Double (codes "$(a b) $(a b)")))) ∷ on_line 3 (Apply (AddLine (BeforeVar (Some 0) (codes ">q")) (NewRule (codes "-include2") Single []))) ∷ on_line 4 Begin ∷ on_line 5 (Apply (ChangeValue (One None) (codes "endef") (edits.Set (codes ";")))) ∷ on_line 6 Redo ∷ on_line 7 (Apply (RemoveLines (OfAssign None (codes ">q")))) ∷ on_line 8 (Apply (AddLine (AfterVar None (codes ">q")) (NewRule (codes "%.o") Double (codes ".PHONY")))) ∷ on_line 9 (Apply (ChangeValue (One None) (codes ">q") (edits.Set []))) ∷ on_line 10 (Apply (AddLine (BeforeVar (Some 0) (codes "CC")) (NewRule (codes "${c}") Single (codes "$x a&b")))) ∷ [])) ∷  -- random-518
    (codes "rule\tbottom\tt\t::\t\"${c} a\"", Ok (on_line 1 (Apply (AddLine Bottom (NewRule (codes "t") Double (codes "${c} a")))) ∷ [])) ∷  -- random-519
    (codes "rule bottom \"$(a b)\" : \"\"\r\nundo\r\nundo\r\n\"nth\" 2 recipe-del b 2\r\nnth\t4294967295\tunset\tifdef\r\nassign \"after-var\" ifdef \"e\" := \"a&b :\"\r\nredo\r\n set\tCC\t\\#\r\n", Ok (on_line 1 (Apply (AddLine Bottom (NewRule (codes "$(a b)") Single []))) ∷ on_line 2 Undo ∷ on_line 3 Undo ∷ on_line 4 (Apply (RemoveLines (OfRecipe (Some 2) (codes "b") (ByNumber 2)))) ∷ on_line 5 (Apply (RemoveLines (OfAssign (Some 4294967295) (codes "ifdef")))) ∷ on_line 6 (Apply (AddLine (AfterVar None (codes "ifdef")) (NewAssign (codes "e") Simple (codes "a&b :")))) ∷ on_line 7 Redo ∷ on_line 8 (Apply (ChangeValue (One None) (codes "CC") (edits.Set (codes "\\#")))) ∷ [])) ∷  -- random-520
    (codes "end\nnth 000 set ifdef \"c ${c}\"\nset \"X$ \" \"a&b $$\"\nundo\nredo\nassign after-var \"X$ \" ifdef := \"\"\nassign bottom X += \"\"\n", Ok (on_line 1 End ∷ on_line 2 (Apply (ChangeValue (One (Some 0)) (codes "ifdef") (edits.Set (codes "c ${c}")))) ∷ on_line 3 (Apply (ChangeValue (One None) (codes "X$ ") (edits.Set (codes "a&b $$")))) ∷ on_line 4 Undo ∷ on_line 5 Redo ∷ on_line 6 (Apply (AddLine (AfterVar None (codes "X$ ")) (NewAssign (codes "ifdef") Simple []))) ∷ on_line 7 (Apply (AddLine Bottom (NewAssign (codes "X") Append []))) ∷ [])) ∷  -- random-521
    (codes "\"recipe-set\" \"b\" 000 \"cÿ\"\nend\n depend-order b .PHONY\nnth\t4294967295\tunset\t\"CC\"\nundo\n\"recipe\" b \" a\"\nappend\tCC\tfoo", Ok (on_line 1 (Apply (SetRecipe None (codes "b") (ByNumber 0) (codes "cÿ"))) ∷ on_line 2 End ∷ on_line 3 (Apply (ChangePrereqs None (codes "b") (AddPrereq true (codes ".PHONY")))) ∷ on_line 4 (Apply (RemoveLines (OfAssign (Some 4294967295) (codes "CC")))) ∷ on_line 5 Undo ∷ on_line 6 (Apply (AddRecipe None (codes "b") Last (codes " a"))) ∷ on_line 7 (Apply (ChangeValue (One None) (codes "CC") (edits.Append (codes "foo")))) ∷ [])) ∷  -- random-522
    (codes "undo\nbegin\nrename \"c\" %.c\n\"unset\" x\nnth \"2\" recipe-del a 4294967295\n\"recipe-del\" a 4294967295\n", Ok (on_line 1 Undo ∷ on_line 2 Begin ∷ on_line 3 (Apply (RenameTarget (codes "c") (codes "%.c"))) ∷ on_line 4 (Apply (RemoveLines (OfAssign None (codes "x")))) ∷ on_line 5 (Apply (RemoveLines (OfRecipe (Some 2) (codes "a") (ByNumber 4294967295)))) ∷ on_line 6 (Apply (RemoveLines (OfRecipe None (codes "a") (ByNumber 4294967295)))) ∷ [])) ∷  -- random-523
    (codes "rename \"a\" $(s\\)\n\"recipe\" \"$(s\\\\)\" \"\tb\"\nundo\nnth  1  recipe-set  $(s\\)  \"4294967295\"  cÿ\nundepend a&b $(s\\)\n\"undepend\" $(s\\) \"c\"\n", Ok (on_line 1 (Apply (RenameTarget (codes "a") (codes "$(s\\)"))) ∷ on_line 2 (Apply (AddRecipe None (codes "$(s\\)") Last (codes "\tb"))) ∷ on_line 3 Undo ∷ on_line 4 (Apply (SetRecipe (Some 1) (codes "$(s\\)") (ByNumber 4294967295) (codes "cÿ"))) ∷ on_line 5 (Apply (ChangePrereqs None (codes "a&b") (RemovePrereq (codes "$(s\\)")))) ∷ on_line 6 (Apply (ChangePrereqs None (codes "$(s\\)") (RemovePrereq (codes "c")))) ∷ [])) ∷  -- random-525
    (codes "set \"override\" \"${g(} a&b\"\n", Ok (on_line 1 (Apply (ChangeValue (One None) (codes "override") (edits.Set (codes "${g(} a&b")))) ∷ [])) ∷  -- random-526
    (codes "rename \"$$\" ${c}\nrecipe-del x.o 001\nnth 4294967296 set X 1\nundo\nrecipe-set a 001 \"\"\nset \"t1\" \"$(p #)\"\nredo\n\"nth\" 0 rule before-rule $$ b& :: \"$x t\"\nnth 0 set \"t1\" \"\"\nredo\nundo\nbegin", Err 3) ∷  -- random-527
    (codes "rename foo %.o\r\nunrule\t$(s\\)\r\n", Ok (on_line 1 (Apply (RenameTarget (codes "foo") (codes "%.o"))) ∷ on_line 2 (Apply (RemoveLines (OfRule None (codes "$(s\\)")))) ∷ [])) ∷  -- random-528
    (codes "unrule .PHONY\n\"nth\" 001 \"append\" X \"$(p #) foo\"\nbegin\nassign bottom X := $#\nset X =\nend\n", Ok (on_line 1 (Apply (RemoveLines (OfRule None (codes ".PHONY")))) ∷ on_line 2 (Apply (ChangeValue (One (Some 1)) (codes "X") (edits.Append (codes "$(p #) foo")))) ∷ on_line 3 Begin ∷ on_line 4 (Apply (AddLine Bottom (NewAssign (codes "X") Simple (codes "$#")))) ∷ on_line 5 (Apply (ChangeValue (One None) (codes "X") (edits.Set (codes "=")))) ∷ on_line 6 End ∷ [])) ∷  -- random-529
    (codes "unset X\nrule\tbottom\t\"a ${c}\"\t:\tx.o\nrecipe-set \"a&b\" 4294967295 \"\tb\"\n\"recipe-set\" ${c} \"1\" q:=1\nrecipe-del\t\"$$\"\t1\nredo", Ok (on_line 1 (Apply (RemoveLines (OfAssign None (codes "X")))) ∷ on_line 2 (Apply (AddLine Bottom (NewRule (codes "a ${c}") Single (codes "x.o")))) ∷ on_line 3 (Apply (SetRecipe None (codes "a&b") (ByNumber 4294967295) (codes "\tb"))) ∷ on_line 4 (Apply (SetRecipe None (codes "${c}") (ByNumber 1) (codes "q:=1"))) ∷ on_line 5 (Apply (RemoveLines (OfRecipe None (codes "$$") (ByNumber 1)))) ∷ on_line 6 Redo ∷ [])) ∷  -- random-530
    (codes "redo\nappend Y \"-include2\"\nappend Y \"${g(} a\"\nassign after-var \"X$ \" define = x.o\nrecipe-del %.o 4294967295\ndepend-order \"$(f {)\" %.c\nunset Y\n", Ok (on_line 1 Redo ∷ on_line 2 (Apply (ChangeValue (One None) (codes "Y") (edits.Append (codes "-include2")))) ∷ on_line 3 (Apply (ChangeValue (One None) (codes "Y") (edits.Append (codes "${g(} a")))) ∷ on_line 4 (Apply (AddLine (AfterVar None (codes "X$ ")) (NewAssign (codes "define") Recursive (codes "x.o")))) ∷ on_line 5 (Apply (RemoveLines (OfRecipe None (codes "%.o") (ByNumber 4294967295)))) ∷ on_line 6 (Apply (ChangePrereqs None (codes "$(f {)") (AddPrereq true (codes "%.c")))) ∷ on_line 7 (Apply (RemoveLines (OfAssign None (codes "Y")))) ∷ [])) ∷  -- random-531
    (codes "undepend a $(q:;=|)\r\n nth 000 \"recipe\" a \"y # z\"\r\nrule \"after-var\" \"ifdef\" -include2 :: \"\"\r\nunrule a\r\nset ifdef 1\r\nundo\r\nundepend -include2 .PHONY\r\n", Ok (on_line 1 (Apply (ChangePrereqs None (codes "a") (RemovePrereq (codes "$(q:;=|)")))) ∷ on_line 2 (Apply (AddRecipe (Some 0) (codes "a") Last (codes "y # z"))) ∷ on_line 3 (Apply (AddLine (AfterVar None (codes "ifdef")) (NewRule (codes "-include2") Double []))) ∷ on_line 4 (Apply (RemoveLines (OfRule None (codes "a")))) ∷ on_line 5 (Apply (ChangeValue (One None) (codes "ifdef") (edits.Set (codes "1")))) ∷ on_line 6 Undo ∷ on_line 7 (Apply (ChangePrereqs None (codes "-include2") (RemovePrereq (codes ".PHONY")))) ∷ [])) ∷  -- random-532
    (codes "depend a a&b\r\nundo\r\nset X 1 2\r\nrule bottom \"$(p #) $x\" \"::\" \"\"\r\n", Err 3) ∷  -- random-533
    (codes "assign bottom \"-x_9\" != $(s\\)\ndepend-order .PHONY $(s\\)\nbegin\n recipe .PHONY t\ncancel\nnth 0 recipe-set $(q:;=|) 1 \"y # z\"\n", Ok (on_line 1 (Apply (AddLine Bottom (NewAssign (codes "-x_9") Shell (codes "$(s\\)")))) ∷ on_line 2 (Apply (ChangePrereqs None (codes ".PHONY") (AddPrereq true (codes "$(s\\)")))) ∷ on_line 3 Begin ∷ on_line 4 (Apply (AddRecipe None (codes ".PHONY") Last (codes "t"))) ∷ on_line 5 Cancel ∷ on_line 6 (Apply (SetRecipe (Some 0) (codes "$(q:;=|)") (ByNumber 1) (codes "y # z"))) ∷ [])) ∷  -- random-534
    (codes "undo\r\nnth\t1\trecipe-set\t\"$$\"\t1\t$(\r\ncancel\r\nrecipe-set $$ 2 cÿ\r\nrecipe-del \"x.o\" 2\r\nassign bottom e \":=\" \"$x c\"\r\n", Ok (on_line 1 Undo ∷ on_line 2 (Apply (SetRecipe (Some 1) (codes "$$") (ByNumber 1) (codes "$("))) ∷ on_line 3 Cancel ∷ on_line 4 (Apply (SetRecipe None (codes "$$") (ByNumber 2) (codes "cÿ"))) ∷ on_line 5 (Apply (RemoveLines (OfRecipe None (codes "x.o") (ByNumber 2)))) ∷ on_line 6 (Apply (AddLine Bottom (NewAssign (codes "e") Simple (codes "$x c")))) ∷ [])) ∷  -- random-535
    (codes "redo\nend\nnth 0 unset CC\nappend \"CC\" \"\"\nbegin\nnth 2 rule before-var CC \"t\" : \"foo ${c}\"\nrename \"$(a b)\" \"$(f {)\"\nset\t\"CC\"\t\"x.o $$\"\nnth 4294967295 \"depend\" a $(s\\)\nset CC \"%.c\"\n nth \"000\" set CC \"\"\nnth 002 unset CC\n", Ok (on_line 1 Redo ∷ on_line 2 End ∷ on_line 3 (Apply (RemoveLines (OfAssign (Some 0) (codes "CC")))) ∷ on_line 4 (Apply (ChangeValue (One None) (codes "CC") (edits.Append []))) ∷ on_line 5 Begin ∷ on_line 6 (Apply (AddLine (BeforeVar (Some 2) (codes "CC")) (NewRule (codes "t") Single (codes "foo ${c}")))) ∷ on_line 7 (Apply (RenameTarget (codes "$(a b)") (codes "$(f {)"))) ∷ on_line 8 (Apply (ChangeValue (One None) (codes "CC") (edits.Set (codes "x.o $$")))) ∷ on_line 9 (Apply (ChangePrereqs (Some 4294967295) (codes "a") (AddPrereq false (codes "$(s\\)")))) ∷ on_line 10 (Apply (ChangeValue (One None) (codes "CC") (edits.Set (codes "%.c")))) ∷ on_line 11 (Apply (ChangeValue (One (Some 0)) (codes "CC") (edits.Set []))) ∷ on_line 12 (Apply (RemoveLines (OfAssign (Some 2) (codes "CC")))) ∷ [])) ∷  -- random-539
    (codes "recipe $$ \"q:=1\"\nunset \">$ endef\"\nrecipe  c  \"\tb\"\nnth 4294967295 recipe $$ q:=1\nredo\nnth 2 set t1 ${g(}\nnth 1 append \">$ endef\" \"| foo\"\n", Ok (on_line 1 (Apply (AddRecipe None (codes "$$") Last (codes "q:=1"))) ∷ on_line 2 (Apply (RemoveLines (OfAssign None (codes ">$ endef")))) ∷ on_line 3 (Apply (AddRecipe None (codes "c") Last (codes "\tb"))) ∷ on_line 4 (Apply (AddRecipe (Some 4294967295) (codes "$$") Last (codes "q:=1"))) ∷ on_line 5 Redo ∷ on_line 6 (Apply (ChangeValue (One (Some 2)) (codes "t1") (edits.Set (codes "${g(}")))) ∷ on_line 7 (Apply (ChangeValue (One (Some 1)) (codes ">$ endef") (edits.Append (codes "| foo")))) ∷ [])) ∷  -- random-540
    (codes "nth\t0\tunrule\t.PHONY\r\nrecipe-set \"$(a b)\" 4294967295 \"\tb\"\r\nbegin\r\n\"unset\"\toverride\r\nrename\tt\tx.o\r\n\"rename\" .PHONY -include2\r\nredo\r\nnth \"1\" depend -include2 .PHONY\r\nnth 2 rule before-rule -include2 \"$(p #)\" \":\" \"\"\r\n\"rename\" \"$(a b)\" a&b\r\n", Ok (on_line 1 (Apply (RemoveLines (OfRule (Some 0) (codes ".PHONY")))) ∷ on_line 2 (Apply (SetRecipe None (codes "$(a b)") (ByNumber 4294967295) (codes "\tb"))) ∷ on_line 3 Begin ∷ on_line 4 (Apply (RemoveLines (OfAssign None (codes "override")))) ∷ on_line 5 (Apply (RenameTarget (codes "t") (codes "x.o"))) ∷ on_line 6 (Apply (RenameTarget (codes ".PHONY") (codes "-include2"))) ∷ on_line 7 Redo ∷ on_line 8 (Apply (ChangePrereqs (Some 1) (codes "-include2") (AddPrereq false (codes ".PHONY")))) ∷ on_line 9 (Apply (AddLine (BeforeRule (Some 2) (codes "-include2")) (NewRule (codes "$(p #)") Single []))) ∷ on_line 10 (Apply (RenameTarget (codes "$(a b)") (codes "a&b"))) ∷ [])) ∷  -- random-541
    (codes "recipe y x\n unset >Z\nassign before-var >Z CC = ${g(}\nunset >Z\nundepend y \"a&b\"\n\"recipe\" e$#f \"$(\"\nset \"endef\" t\n", Ok (on_line 1 (Apply (AddRecipe None (codes "y") Last (codes "x"))) ∷ on_line 2 (Apply (RemoveLines (OfAssign None (codes ">Z")))) ∷ on_line 3 (Apply (AddLine (BeforeVar None (codes ">Z")) (NewAssign (codes "CC") Recursive (codes "${g(}")))) ∷ on_line 4 (Apply (RemoveLines (OfAssign None (codes ">Z")))) ∷ on_line 5 (Apply (ChangePrereqs None (codes "y") (RemovePrereq (codes "a&b")))) ∷ on_line 6 (Apply (AddRecipe None (codes "e$#f") Last (codes "$("))) ∷ on_line 7 (Apply (ChangeValue (One None) (codes "endef") (edits.Set (codes "t")))) ∷ [])) ∷  -- random-542
    (codes "nth 2 rule \"before-rule\" %.o \"$$ b\" :: \"\"\nnth 1 \"unrule\" %.o\nrule bottom \"a:b x.o\" :: \"$(p #) t\"\n", Ok (on_line 1 (Apply (AddLine (BeforeRule (Some 2) (codes "%.o")) (NewRule (codes "$$ b") Double []))) ∷ on_line 2 (Apply (RemoveLines (OfRule (Some 1) (codes "%.o")))) ∷ on_line 3 (Apply (AddLine Bottom (NewRule (codes "a:b x.o") Double (codes "$(p #) t")))) ∷ [])) ∷  -- random-543
    (codes "unset a.b\n unrule \"x.o\"\nundo\ndepend-order\tfoo\t\"a&b\"\n\"rule\"\tbottom\t\"\"\t::\t\"t ${g(}\"\nundo\n\"recipe-set\" foo 4294967295 q:=1\nset override \"\"\n", Ok (on_line 1 (Apply (RemoveLines (OfAssign None (codes "a.b")))) ∷ on_line 2 (Apply (RemoveLines (OfRule None (codes "x.o")))) ∷ on_line 3 Undo ∷ on_line 4 (Apply (ChangePrereqs None (codes "foo") (AddPrereq true (codes "a&b")))) ∷ on_line 5 (Apply (AddLine Bottom (NewRule [] Double (codes "t ${g(}")))) ∷ on_line 6 Undo ∷ on_line 7 (Apply (SetRecipe None (codes "foo") (ByNumber 4294967295) (codes "q:=1"))) ∷ on_line 8 (Apply (ChangeValue (One None) (codes "override") (edits.Set []))) ∷ [])) ∷  -- random-544
    (codes " rule before-var >q \"$(f {)\" :: \"\"\nredo\nundo\ncancel\nnth 1 undepend a a\ncancel\nundo\nnth\t\"1\"\t\"recipe\"\ta\tx\nrename a %.o\nunset >q", Ok (on_line 1 (Apply (AddLine (BeforeVar None (codes ">q")) (NewRule (codes "$(f {)") Double []))) ∷ on_line 2 Redo ∷ on_line 3 Undo ∷ on_line 4 Cancel ∷ on_line 5 (Apply (ChangePrereqs (Some 1) (codes "a") (RemovePrereq (codes "a")))) ∷ on_line 6 Cancel ∷ on_line 7 Undo ∷ on_line 8 (Apply (AddRecipe (Some 1) (codes "a") Last (codes "x"))) ∷ on_line 9 (Apply (RenameTarget (codes "a") (codes "%.o"))) ∷ on_line 10 (Apply (RemoveLines (OfAssign None (codes ">q")))) ∷ [])) ∷  -- random-545
    (codes "assign before-var .RECIPEPREFIX \"-x_9\" \":=\" \": a\"\nappend \".RECIPEPREFIX\" \"t 1\"\n append .RECIPEPREFIX \"\"\nbegin\nnth 0 assign before-var .RECIPEPREFIX \"ifdef\" != t\nrule\tafter-var\t.RECIPEPREFIX\t\"a&b\"\t::\t\"t foo\"\ncancel\nassign  before-var  .RECIPEPREFIX  \"define\"  =  \"$(q:;=|) a\"\n", Ok (on_line 1 (Apply (AddLine (BeforeVar None (codes ".RECIPEPREFIX")) (NewAssign (codes "-x_9") Simple (codes ": a")))) ∷ on_line 2 (Apply (ChangeValue (One None) (codes ".RECIPEPREFIX") (edits.Append (codes "t 1")))) ∷ on_line 3 (Apply (ChangeValue (One None) (codes ".RECIPEPREFIX") (edits.Append []))) ∷ on_line 4 Begin ∷ on_line 5 (Apply (AddLine (BeforeVar (Some 0) (codes ".RECIPEPREFIX")) (NewAssign (codes "ifdef") Shell (codes "t")))) ∷ on_line 6 (Apply (AddLine (AfterVar None (codes ".RECIPEPREFIX")) (NewRule (codes "a&b") Double (codes "t foo")))) ∷ on_line 7 Cancel ∷ on_line 8 (Apply (AddLine (BeforeVar None (codes ".RECIPEPREFIX")) (NewAssign (codes "define") Recursive (codes "$(q:;=|) a")))) ∷ [])) ∷  -- random-546
    (codes "nth\t2\trecipe-set\t\"a&b\"\t000\t\" a\"\nnth \"0\" unrule \"$(f {)\"\ndepend  a&b  \"$;\"\nundo\nunrule a&b\nredo\nundepend \"$(f {)\" %.c\nnth 1 begin\n nth 1 rule before-rule a&b -include2 : foo\ndepend-order -include2 \"$(s\\\\)\"\n\"depend-order\" a&b \"$(f {)\"\n\"nth\" \"2\" undepend a&b \"$(f {)\"", Err 8) ∷  -- random-547
    (codes "\"nth\"  000  set  endef  \"$(p #) a\"\nnth 1 set endef \"x.o $#\"\nundo\n", Ok (on_line 1 (Apply (ChangeValue (One (Some 0)) (codes "endef") (edits.Set (codes "$(p #) a")))) ∷ on_line 2 (Apply (ChangeValue (One (Some 1)) (codes "endef") (edits.Set (codes "x.o $#")))) ∷ on_line 3 Undo ∷ [])) ∷  -- random-548
    (codes "undo\n\"assign\" bottom t = \"\"\nassign bottom ifdef := a&b\nundo\nend\nrule\tbottom\t\"t c\"\t::\t\"a&b ${g(}\"\nassign  bottom  CC  =  c", Ok (on_line 1 Undo ∷ on_line 2 (Apply (AddLine Bottom (NewAssign (codes "t") Recursive []))) ∷ on_line 3 (Apply (AddLine Bottom (NewAssign (codes "ifdef") Simple (codes "a&b")))) ∷ on_line 4 Undo ∷ on_line 5 End ∷ on_line 6 (Apply (AddLine Bottom (NewRule (codes "t c") Double (codes "a&b ${g(}")))) ∷ on_line 7 (Apply (AddLine Bottom (NewAssign (codes "CC") Recursive (codes "c")))) ∷ [])) ∷  -- random-549
    (codes "recipe-del \"$(f {)\" \"001\"\n\"nth\" \"4294967295\" rule before-var Y \"\" :: ${g(}\nundo\nundo\nrule \"bottom\" t \":\" \"\"\n\"recipe-del\" \"t\" \"0\"\nnth \"000\" recipe t \"e f \\\\ g\"\nunrule \"t\"\nrule bottom $x :: \"\"\n", Ok (on_line 1 (Apply (RemoveLines (OfRecipe None (codes "$(f {)") (ByNumber 1)))) ∷ on_line 2 (Apply (AddLine (BeforeVar (Some 4294967295) (codes "Y")) (NewRule [] Double (codes "${g(}")))) ∷ on_line 3 Undo ∷ on_line 4 Undo ∷ on_line 5 (Apply (AddLine Bottom (NewRule (codes "t") Single []))) ∷ on_line 6 (Apply (RemoveLines (OfRecipe None (codes "t") (ByNumber 0)))) ∷ on_line 7 (Apply (AddRecipe (Some 0) (codes "t") Last (codes "e f \\ g"))) ∷ on_line 8 (Apply (RemoveLines (OfRule None (codes "t")))) ∷ on_line 9 (Apply (AddLine Bottom (NewRule (codes "$x") Double []))) ∷ [])) ∷  -- random-550
    (codes "\"append\" \"X$ \" \"foo $#\"\nset X \"\"\nrule \"bottom\" \"\" : \"\"\nundo\n", Ok (on_line 1 (Apply (ChangeValue (One None) (codes "X$ ") (edits.Append (codes "foo $#")))) ∷ on_line 2 (Apply (ChangeValue (One None) (codes "X") (edits.Set []))) ∷ on_line 3 (Apply (AddLine Bottom (NewRule [] Single []))) ∷ on_line 4 Undo ∷ [])) ∷  -- random-551
    (codes "unset\toverride\nassign\tbottom\t\"X\"\t::=\t\"\"\n", Ok (on_line 1 (Apply (RemoveLines (OfAssign None (codes "override")))) ∷ on_line 2 (Apply (AddLine Bottom (NewAssign (codes "X") PosixSimple []))) ∷ [])) ∷  -- random-552
    (codes " rule bottom ${c} :: \"foo\"\r\n\"rule\" bottom \"x=1 -include2\" : \"\"\r\nrecipe \"%.c\" \"y # z\"\r\nrecipe-del ${c} \"2\"\r\nrule before-rule \"${c}\" \"\" : $x\r\nrecipe-set ${c} 0 x\r\nrecipe-del -include2 2\r\nrecipe \"${c}\" \"define\"\r\nrecipe-del \"${c}\" 1\r\n\"assign\" bottom t1 != \"\"\r\n", Ok (on_line 1 (Apply (AddLine Bottom (NewRule (codes "${c}") Double (codes "foo")))) ∷ on_line 2 (Apply (AddLine Bottom (NewRule (codes "x=1 -include2") Single []))) ∷ on_line 3 (Apply (AddRecipe None (codes "%.c") Last (codes "y # z"))) ∷ on_line 4 (Apply (RemoveLines (OfRecipe None (codes "${c}") (ByNumber 2)))) ∷ on_line 5 (Apply (AddLine (BeforeRule None (codes "${c}")) (NewRule [] Single (codes "$x")))) ∷ on_line 6 (Apply (SetRecipe None (codes "${c}") (ByNumber 0) (codes "x"))) ∷ on_line 7 (Apply (RemoveLines (OfRecipe None (codes "-include2") (ByNumber 2)))) ∷ on_line 8 (Apply (AddRecipe None (codes "${c}") Last (codes "define"))) ∷ on_line 9 (Apply (RemoveLines (OfRecipe None (codes "${c}") (ByNumber 1)))) ∷ on_line 10 (Apply (AddLine Bottom (NewAssign (codes "t1") Shell []))) ∷ [])) ∷  -- random-553
    (codes "\"rename\"\t-include2\tt\nassign \"after-var\" a.b A ?= \\$x\n\"rename\" t $$\n\"rule\" \"bottom\" t :: -include2\nundo\nundo\nrename $(q:;=|) $(q:;=|)\nassign bottom CC ?= \"$# a\\\\:b\"\n", Ok (on_line 1 (Apply (RenameTarget (codes "-include2") (codes "t"))) ∷ on_line 2 (Apply (AddLine (AfterVar None (codes "a.b")) (NewAssign (codes "A") Conditional (codes "\\$x")))) ∷ on_line 3 (Apply (RenameTarget (codes "t") (codes "$$"))) ∷ on_line 4 (Apply (AddLine Bottom (NewRule (codes "t") Double (codes "-include2")))) ∷ on_line 5 Undo ∷ on_line 6 Undo ∷ on_line 7 (Apply (RenameTarget (codes "$(q:;=|)") (codes "$(q:;=|)"))) ∷ on_line 8 (Apply (AddLine Bottom (NewAssign (codes "CC") Conditional (codes "$# a\\:b")))) ∷ [])) ∷  -- random-554
    (codes "rule before-var -x_9 %.o : \"\"\ncancel\n", Ok (on_line 1 (Apply (AddLine (BeforeVar None (codes "-x_9")) (NewRule (codes "%.o") Single []))) ∷ on_line 2 Cancel ∷ [])) ∷  -- random-555
    []

answers_10 : map (λ row. read_script row.0) rows_10 ≡ map (λ row. row.1) rows_10
unfolding line_len lines_from
answers_10 = refl

abbrev rows_11 : List (List ℕ × Result (List Step) ℕ)
rows_11 =
    (codes "set  a.b  \"\"", Ok (on_line 1 (Apply (ChangeValue (One None) (codes "a.b") (edits.Set []))) ∷ [])) ∷  -- random-556
    (codes "nth  001  depend-order  $(q:;=|)  \"$(p #)\"\ndepend $(q:;=|) $(s\\)\nappend a.b \"a =\"\ncancel\n\"assign\" \"after-var\" \"a.b\" \"define\" \":::=\" \"\"\nundo\nset \"a.b\" x.o\n\"unrule\" \"$(q:;=|)\"", Ok (on_line 1 (Apply (ChangePrereqs (Some 1) (codes "$(q:;=|)") (AddPrereq true (codes "$(p #)")))) ∷ on_line 2 (Apply (ChangePrereqs None (codes "$(q:;=|)") (AddPrereq false (codes "$(s\\)")))) ∷ on_line 3 (Apply (ChangeValue (One None) (codes "a.b") (edits.Append (codes "a =")))) ∷ on_line 4 Cancel ∷ on_line 5 (Apply (AddLine (AfterVar None (codes "a.b")) (NewAssign (codes "define") Immediate []))) ∷ on_line 6 Undo ∷ on_line 7 (Apply (ChangeValue (One None) (codes "a.b") (edits.Set (codes "x.o")))) ∷ on_line 8 (Apply (RemoveLines (OfRule None (codes "$(q:;=|)")))) ∷ [])) ∷  -- random-557
    (codes "recipe-set foo 4294967295 \" a\"\nundo\nnth 1 rule before-rule foo $x :: \"\"\nrecipe-set $x 4294967295 \"\"\nredo\nassign before-rule \"foo\" \"CC\" += \"\"\nunrule \"$(p #)\"\nnth \"2\" assign before-rule $x t1 := \"$(f {)\"\n\"nth\" 0 undepend \"foo\" $x\nnth  1  \"unset\"  \"CC\"\n", Ok (on_line 1 (Apply (SetRecipe None (codes "foo") (ByNumber 4294967295) (codes " a"))) ∷ on_line 2 Undo ∷ on_line 3 (Apply (AddLine (BeforeRule (Some 1) (codes "foo")) (NewRule (codes "$x") Double []))) ∷ on_line 4 (Apply (SetRecipe None (codes "$x") (ByNumber 4294967295) [])) ∷ on_line 5 Redo ∷ on_line 6 (Apply (AddLine (BeforeRule None (codes "foo")) (NewAssign (codes "CC") Append []))) ∷ on_line 7 (Apply (RemoveLines (OfRule None (codes "$(p #)")))) ∷ on_line 8 (Apply (AddLine (BeforeRule (Some 2) (codes "$x")) (NewAssign (codes "t1") Simple (codes "$(f {)")))) ∷ on_line 9 (Apply (ChangePrereqs (Some 0) (codes "foo") (RemovePrereq (codes "$x")))) ∷ on_line 10 (Apply (RemoveLines (OfAssign (Some 1) (codes "CC")))) ∷ [])) ∷  -- random-558
    (codes "\"append\" t1 \"\"\nset t1 $(q:;=|)\nset t1 \"a %.c\"\nassign bottom a.b += =\nunset t1\nset a.b \"\"\nrule bottom \"$x b\" :: \"\"\n\"rule\" before-var a.b \"$x $(p #)\" :: \"%.c ${g(}\"\nnth 002 undepend $x c\nrename \"$(p #)\" a&b\n rule bottom $| : \"-include2 \\\\#\"", Ok (on_line 1 (Apply (ChangeValue (One None) (codes "t1") (edits.Append []))) ∷ on_line 2 (Apply (ChangeValue (One None) (codes "t1") (edits.Set (codes "$(q:;=|)")))) ∷ on_line 3 (Apply (ChangeValue (One None) (codes "t1") (edits.Set (codes "a %.c")))) ∷ on_line 4 (Apply (AddLine Bottom (NewAssign (codes "a.b") Append (codes "=")))) ∷ on_line 5 (Apply (RemoveLines (OfAssign None (codes "t1")))) ∷ on_line 6 (Apply (ChangeValue (One None) (codes "a.b") (edits.Set []))) ∷ on_line 7 (Apply (AddLine Bottom (NewRule (codes "$x b") Double []))) ∷ on_line 8 (Apply (AddLine (BeforeVar None (codes "a.b")) (NewRule (codes "$x $(p #)") Double (codes "%.c ${g(}")))) ∷ on_line 9 (Apply (ChangePrereqs (Some 2) (codes "$x") (RemovePrereq (codes "c")))) ∷ on_line 10 (Apply (RenameTarget (codes "$(p #)") (codes "a&b"))) ∷ on_line 11 (Apply (AddLine Bottom (NewRule (codes "$|") Single (codes "-include2 \\#")))) ∷ [])) ∷  -- random-560
    (codes "assign  bottom  >q  +=  ;\nrecipe-del foo \"1\"\nredo\ndepend-order  foo  x.o\nassign \"after-var\" ifdef \"e\" \"!=\" \"$(p #) ${g(}\"\nrule before-rule foo a&b : \"\"\nset .RECIPEPREFIX 1\nundo\nundepend\tfoo\t$$\nundepend\tfoo\t$x\nrule before-rule foo ${g(} : \"$(q:;=|) %.c\"\nnth 4294967295 \"rule\" after-var Y \"x.o\" : \"\"", Ok (on_line 1 (Apply (AddLine Bottom (NewAssign (codes ">q") Append (codes ";")))) ∷ on_line 2 (Apply (RemoveLines (OfRecipe None (codes "foo") (ByNumber 1)))) ∷ on_line 3 Redo ∷ on_line 4 (Apply (ChangePrereqs None (codes "foo") (AddPrereq true (codes "x.o")))) ∷ on_line 5 (Apply (AddLine (AfterVar None (codes "ifdef")) (NewAssign (codes "e") Shell (codes "$(p #) ${g(}")))) ∷ on_line 6 (Apply (AddLine (BeforeRule None (codes "foo")) (NewRule (codes "a&b") Single []))) ∷ on_line 7 (Apply (ChangeValue (One None) (codes ".RECIPEPREFIX") (edits.Set (codes "1")))) ∷ on_line 8 Undo ∷ on_line 9 (Apply (ChangePrereqs None (codes "foo") (RemovePrereq (codes "$$")))) ∷ on_line 10 (Apply (ChangePrereqs None (codes "foo") (RemovePrereq (codes "$x")))) ∷ on_line 11 (Apply (AddLine (BeforeRule None (codes "foo")) (NewRule (codes "${g(}") Single (codes "$(q:;=|) %.c")))) ∷ on_line 12 (Apply (AddLine (AfterVar (Some 4294967295) (codes "Y")) (NewRule (codes "x.o") Single []))) ∷ [])) ∷  -- random-562
    (codes "cancel\r\n \"set\" CC \"%.o t\"\r\nset CC \"2 3\"\r\nredo\r\n \"set\" CC \"%.o ${c}\"\r\nnth 2 unset CC\r\nend\r\nassign  after-var  CC  override  +=  %.c\r\n\"set\" CC :\r\n", Ok (on_line 1 Cancel ∷ on_line 2 (Apply (ChangeValue (One None) (codes "CC") (edits.Set (codes "%.o t")))) ∷ on_line 3 (Apply (ChangeValue (One None) (codes "CC") (edits.Set (codes "2 3")))) ∷ on_line 4 Redo ∷ on_line 5 (Apply (ChangeValue (One None) (codes "CC") (edits.Set (codes "%.o ${c}")))) ∷ on_line 6 (Apply (RemoveLines (OfAssign (Some 2) (codes "CC")))) ∷ on_line 7 End ∷ on_line 8 (Apply (AddLine (AfterVar None (codes "CC")) (NewAssign (codes "override") Append (codes "%.c")))) ∷ on_line 9 (Apply (ChangeValue (One None) (codes "CC") (edits.Set (codes ":")))) ∷ [])) ∷  -- random-563
    (codes "\"set\" >q \"\"\r\ndepend-order foo \"$(p #)\"\r\nundo\r\nrule  bottom  \"\"  :  \"%.c a\"\r\nredo\r\nbegin\r\ncancel\r\ndepend a \"$(p #)\"\r\n undepend\ta\t\"$(p #)\"\r\n", Ok (on_line 1 (Apply (ChangeValue (One None) (codes ">q") (edits.Set []))) ∷ on_line 2 (Apply (ChangePrereqs None (codes "foo") (AddPrereq true (codes "$(p #)")))) ∷ on_line 3 Undo ∷ on_line 4 (Apply (AddLine Bottom (NewRule [] Single (codes "%.c a")))) ∷ on_line 5 Redo ∷ on_line 6 Begin ∷ on_line 7 Cancel ∷ on_line 8 (Apply (ChangePrereqs None (codes "a") (AddPrereq false (codes "$(p #)")))) ∷ on_line 9 (Apply (ChangePrereqs None (codes "a") (RemovePrereq (codes "$(p #)")))) ∷ [])) ∷  -- random-564
    (codes "begin\nundepend \"foo\" $(q:;=|)\nend\ncancel\ndepend-order foo $$\nrule bottom -include2 \":\" \"\"\n", Ok (on_line 1 Begin ∷ on_line 2 (Apply (ChangePrereqs None (codes "foo") (RemovePrereq (codes "$(q:;=|)")))) ∷ on_line 3 End ∷ on_line 4 Cancel ∷ on_line 5 (Apply (ChangePrereqs None (codes "foo") (AddPrereq true (codes "$$")))) ∷ on_line 6 (Apply (AddLine Bottom (NewRule (codes "-include2") Single []))) ∷ [])) ∷  -- random-565
    (codes " nth 0 set \"overrde\" \"$(f {)\"\n unset\toverride\nnth 0 set overrde a&b\nnth 0 depend-order t \"$(f {)\"\n", Ok (on_line 1 (Apply (ChangeValue (One (Some 0)) (codes "overrde") (edits.Set (codes "$(f {)")))) ∷ on_line 2 (Apply (RemoveLines (OfAssign None (codes "override")))) ∷ on_line 3 (Apply (ChangeValue (One (Some 0)) (codes "overrde") (edits.Set (codes "a&b")))) ∷ on_line 4 (Apply (ChangePrereqs (Some 0) (codes "t") (AddPrereq true (codes "$(f {)")))) ∷ [])) ∷  -- random-566
    (codes " unrule %.c\n\"depend\"\t\"$(a b)\"\t\"$(p #)\"\nrule  \"bottom\"  \"\"  :  \"$(p #) a&b\"\nnth 1 unrule t\n\"rename\" $$ $(s\\)\nredo\n assign bottom t1 != \"\"\nredo\n\"set\"\tt1\t\"-include2 ;\"\n", Ok (on_line 1 (Apply (RemoveLines (OfRule None (codes "%.c")))) ∷ on_line 2 (Apply (ChangePrereqs None (codes "$(a b)") (AddPrereq false (codes "$(p #)")))) ∷ on_line 3 (Apply (AddLine Bottom (NewRule [] Single (codes "$(p #) a&b")))) ∷ on_line 4 (Apply (RemoveLines (OfRule (Some 1) (codes "t")))) ∷ on_line 5 (Apply (RenameTarget (codes "$$") (codes "$(s\\)"))) ∷ on_line 6 Redo ∷ on_line 7 (Apply (AddLine Bottom (NewAssign (codes "t1") Shell []))) ∷ on_line 8 Redo ∷ on_line 9 (Apply (ChangeValue (One None) (codes "t1") (edits.Set (codes "-include2 ;")))) ∷ [])) ∷  -- random-567
    (codes "set endef \"\"\n \"nth\" 1 undepend a&b ${c}\n", Ok (on_line 1 (Apply (ChangeValue (One None) (codes "endef") (edits.Set []))) ∷ on_line 2 (Apply (ChangePrereqs (Some 1) (codes "a&b") (RemovePrereq (codes "${c}")))) ∷ [])) ∷  -- random-568
    (codes "recipe-del \".PHONY\" 1\r\n", Ok (on_line 1 (Apply (RemoveLines (OfRecipe None (codes ".PHONY") (ByNumber 1)))) ∷ [])) ∷  -- random-569
    (codes "undo\n\"assign\" bottom ifdef += \"1 %.c\"\nnth  4294967295  depend  ${c}  \"t\"\nredo\n\"assign\" after-var \"ifdef\" a.b = \"\"\nrule bottom \"\" \":\" \"$(f {) c\"\nappend  ifdef  \"t a&b\"\nappend \"ifdef\" \"\"\n", Ok (on_line 1 Undo ∷ on_line 2 (Apply (AddLine Bottom (NewAssign (codes "ifdef") Append (codes "1 %.c")))) ∷ on_line 3 (Apply (ChangePrereqs (Some 4294967295) (codes "${c}") (AddPrereq false (codes "t")))) ∷ on_line 4 Redo ∷ on_line 5 (Apply (AddLine (AfterVar None (codes "ifdef")) (NewAssign (codes "a.b") Recursive []))) ∷ on_line 6 (Apply (AddLine Bottom (NewRule [] Single (codes "$(f {) c")))) ∷ on_line 7 (Apply (ChangeValue (One None) (codes "ifdef") (edits.Append (codes "t a&b")))) ∷ on_line 8 (Apply (ChangeValue (One None) (codes "ifdef") (edits.Append []))) ∷ [])) ∷  -- random-570
    (codes "assign\tbottom\tA\t::=\t.PHONY\nundepend  x.o  \"${g(}\"\nundo\nbegin\nassign bottom ifdef ::= \"\"\nrule bottom t : \"\"\nassign \"bottom\" t1 \":=\" \"a&b\"\nrule bottom \"$(s\\\\)\" :: \"$(s\\\\) $(p #)\"\n \"rule\" bottom x.o :: \"$(p #)\"\nassign \"bottom\" e != $$\nassign\tbefore-var\tdefine\tendef\t:=\t\"a\\\\:b |\"", Ok (on_line 1 (Apply (AddLine Bottom (NewAssign (codes "A") PosixSimple (codes ".PHONY")))) ∷ on_line 2 (Apply (ChangePrereqs None (codes "x.o") (RemovePrereq (codes "${g(}")))) ∷ on_line 3 Undo ∷ on_line 4 Begin ∷ on_line 5 (Apply (AddLine Bottom (NewAssign (codes "ifdef") PosixSimple []))) ∷ on_line 6 (Apply (AddLine Bottom (NewRule (codes "t") Single []))) ∷ on_line 7 (Apply (AddLine Bottom (NewAssign (codes "t1") Simple (codes "a&b")))) ∷ on_line 8 (Apply (AddLine Bottom (NewRule (codes "$(s\\)") Double (codes "$(s\\) $(p #)")))) ∷ on_line 9 (Apply (AddLine Bottom (NewRule (codes "x.o") Double (codes "$(p #)")))) ∷ on_line 10 (Apply (AddLine Bottom (NewAssign (codes "e") Shell (codes "$$")))) ∷ on_line 11 (Apply (AddLine (BeforeVar None (codes "define")) (NewAssign (codes "endef") Simple (codes "a\\:b |")))) ∷ [])) ∷  -- random-571
    (codes "\"assign\" bottom t1 != \"${g(} a\"\nundo\nrule bottom b :: \"c $x\"\n", Ok (on_line 1 (Apply (AddLine Bottom (NewAssign (codes "t1") Shell (codes "${g(} a")))) ∷ on_line 2 Undo ∷ on_line 3 (Apply (AddLine Bottom (NewRule (codes "b") Double (codes "c $x")))) ∷ [])) ∷  -- random-572
    (codes "\"recipe\" a&b $(\nrule \"bottom\" ${c} :: \"c\"\n\"nth\" 2 recipe-del ${c} \"4294967295\"\nrule bottom \"$(a b)\" : x.o\n\"assign\" bottom e \"::=\" \"\"\nnth 4294967295 append e c\nbegin\nunrule  ${c}\n\"append\" e \"\"\nnth \"000\" \"recipe-set\" $(s\\) \"4294967295\" \"\tb\"\nundepend \"$(a b)\" x.o", Ok (on_line 1 (Apply (AddRecipe None (codes "a&b") Last (codes "$("))) ∷ on_line 2 (Apply (AddLine Bottom (NewRule (codes "${c}") Double (codes "c")))) ∷ on_line 3 (Apply (RemoveLines (OfRecipe (Some 2) (codes "${c}") (ByNumber 4294967295)))) ∷ on_line 4 (Apply (AddLine Bottom (NewRule (codes "$(a b)") Single (codes "x.o")))) ∷ on_line 5 (Apply (AddLine Bottom (NewAssign (codes "e") PosixSimple []))) ∷ on_line 6 (Apply (ChangeValue (One (Some 4294967295)) (codes "e") (edits.Append (codes "c")))) ∷ on_line 7 Begin ∷ on_line 8 (Apply (RemoveLines (OfRule None (codes "${c}")))) ∷ on_line 9 (Apply (ChangeValue (One None) (codes "e") (edits.Append []))) ∷ on_line 10 (Apply (SetRecipe (Some 0) (codes "$(s\\)") (ByNumber 4294967295) (codes "\tb"))) ∷ on_line 11 (Apply (ChangePrereqs None (codes "$(a b)") (RemovePrereq (codes "x.o")))) ∷ [])) ∷  -- random-573
    (codes "\"rule\" bottom \"$(f {)\" : \"\"\r\nassign bottom \"X\" :::= \"\"\r\n", Ok (on_line 1 (Apply (AddLine Bottom (NewRule (codes "$(f {)") Single []))) ∷ on_line 2 (Apply (AddLine Bottom (NewAssign (codes "X") Immediate []))) ∷ [])) ∷  -- random-574
    (codes "begin\nrecipe y \"e f \\\\ g\"\nredo\nundo\n", Ok (on_line 1 Begin ∷ on_line 2 (Apply (AddRecipe None (codes "y") Last (codes "e f \\ g"))) ∷ on_line 3 Redo ∷ on_line 4 Undo ∷ [])) ∷  -- random-575
    (codes "assign\tbottom\tY\t=\t\"\"\nredo\nassign bottom a.b \"::=\" \"\"\n \"assign\" bottom define ?= \"\"\n", Ok (on_line 1 (Apply (AddLine Bottom (NewAssign (codes "Y") Recursive []))) ∷ on_line 2 Redo ∷ on_line 3 (Apply (AddLine Bottom (NewAssign (codes "a.b") PosixSimple []))) ∷ on_line 4 (Apply (AddLine Bottom (NewAssign (codes "define") Conditional []))) ∷ [])) ∷  -- random-576
    (codes "nth 0 set a.b \\$x\r\n \"nth\"  2  recipe  \"x.o\"  \"y # z\"\r\n\"nth\" 2 recipe x.o \"e f \\\\ g\"\r\n nth 2 recipe-del x.o 1\r\n\"unset\" a.b\r\nnth 002 \"recipe-del\" \"x.o\" 1\r\n", Ok (on_line 1 (Apply (ChangeValue (One (Some 0)) (codes "a.b") (edits.Set (codes "\\$x")))) ∷ on_line 2 (Apply (AddRecipe (Some 2) (codes "x.o") Last (codes "y # z"))) ∷ on_line 3 (Apply (AddRecipe (Some 2) (codes "x.o") Last (codes "e f \\ g"))) ∷ on_line 4 (Apply (RemoveLines (OfRecipe (Some 2) (codes "x.o") (ByNumber 1)))) ∷ on_line 5 (Apply (RemoveLines (OfAssign None (codes "a.b")))) ∷ on_line 6 (Apply (RemoveLines (OfRecipe (Some 2) (codes "x.o") (ByNumber 1)))) ∷ [])) ∷  -- random-577
    (codes "depend-order y $x\nredo\nnth \"4294967295\" assign before-var -x_9 t += \"\"\ndepend y $x\nrule before-rule \"y\" \"$(p #) a&b\" :: \"\"\nundo\nassign before-rule y override \":=\" \"foo \\\\$x\"\nend\n \"append\" CC \"$(f {)\"\nredo\n\"assign\"  \"before-rule\"  x.o  endef  :=  x.o\n", Ok (on_line 1 (Apply (ChangePrereqs None (codes "y") (AddPrereq true (codes "$x")))) ∷ on_line 2 Redo ∷ on_line 3 (Apply (AddLine (BeforeVar (Some 4294967295) (codes "-x_9")) (NewAssign (codes "t") Append []))) ∷ on_line 4 (Apply (ChangePrereqs None (codes "y") (AddPrereq false (codes "$x")))) ∷ on_line 5 (Apply (AddLine (BeforeRule None (codes "y")) (NewRule (codes "$(p #) a&b") Double []))) ∷ on_line 6 Undo ∷ on_line 7 (Apply (AddLine (BeforeRule None (codes "y")) (NewAssign (codes "override") Simple (codes "foo \\$x")))) ∷ on_line 8 End ∷ on_line 9 (Apply (ChangeValue (One None) (codes "CC") (edits.Append (codes "$(f {)")))) ∷ on_line 10 Redo ∷ on_line 11 (Apply (AddLine (BeforeRule None (codes "x.o")) (NewAssign (codes "endef") Simple (codes "x.o")))) ∷ [])) ∷  -- random-578
    (codes "rule bottom \"\" : \"foo $(a b)\"\nset t1 \"\"\nundo\nunrule\t-include2\nassign \"bottom\" A :::= \"; $(p #)\"\nrule\tafter-var\t\"A\"\tt\t:\t\"\"\nrecipe-del  \"t\"  1\ndepend t b\n\"append\" \"a.b\" ${c}\nend\n", Ok (on_line 1 (Apply (AddLine Bottom (NewRule [] Single (codes "foo $(a b)")))) ∷ on_line 2 (Apply (ChangeValue (One None) (codes "t1") (edits.Set []))) ∷ on_line 3 Undo ∷ on_line 4 (Apply (RemoveLines (OfRule None (codes "-include2")))) ∷ on_line 5 (Apply (AddLine Bottom (NewAssign (codes "A") Immediate (codes "; $(p #)")))) ∷ on_line 6 (Apply (AddLine (AfterVar None (codes "A")) (NewRule (codes "t") Single []))) ∷ on_line 7 (Apply (RemoveLines (OfRecipe None (codes "t") (ByNumber 1)))) ∷ on_line 8 (Apply (ChangePrereqs None (codes "t") (AddPrereq false (codes "b")))) ∷ on_line 9 (Apply (ChangeValue (One None) (codes "a.b") (edits.Append (codes "${c}")))) ∷ on_line 10 End ∷ [])) ∷  -- random-579
    (codes "begin\r\nrecipe-set foo 4294967295 \"t\"\r\n\"set\" -x_9 $(q:;=|)\r\nend\r\nset define %.o\r\n\"nth\" \"4294967295\" recipe \"foo\" cÿ\r\ndepend-order foo \"x.o\"\r\nset X \\#\r\n\"nth\" 0 \"set\" \"-x_9\" \"$(a b)\"", Ok (on_line 1 Begin ∷ on_line 2 (Apply (SetRecipe None (codes "foo") (ByNumber 4294967295) (codes "t"))) ∷ on_line 3 (Apply (ChangeValue (One None) (codes "-x_9") (edits.Set (codes "$(q:;=|)")))) ∷ on_line 4 End ∷ on_line 5 (Apply (ChangeValue (One None) (codes "define") (edits.Set (codes "%.o")))) ∷ on_line 6 (Apply (AddRecipe (Some 4294967295) (codes "foo") Last (codes "cÿ"))) ∷ on_line 7 (Apply (ChangePrereqs None (codes "foo") (AddPrereq true (codes "x.o")))) ∷ on_line 8 (Apply (ChangeValue (One None) (codes "X") (edits.Set (codes "\\#")))) ∷ on_line 9 (Apply (ChangeValue (One (Some 0)) (codes "-x_9") (edits.Set (codes "$(a b)")))) ∷ [])) ∷  -- random-580
    (codes "undo\r\n\"assign\"\t\"bottom\"\tY\t\"=\"\t\".PHONY\"\r\nnth 4294967295 \"unset\" Y\r\n\"unset\"  define\r\n", Ok (on_line 1 Undo ∷ on_line 2 (Apply (AddLine Bottom (NewAssign (codes "Y") Recursive (codes ".PHONY")))) ∷ on_line 3 (Apply (RemoveLines (OfAssign (Some 4294967295) (codes "Y")))) ∷ on_line 4 (Apply (RemoveLines (OfAssign None (codes "define")))) ∷ [])) ∷  -- random-582
    (codes "assign  after-var  .RECIPEPREFIX  t  !=  \"-include2\"\n recipe\tb\t\"cÿ\"\n \"rule\"\tbefore-rule\t\"b\"\t\".PHONY ${c}\"\t:\t\"\\\\ .PHONY\"\nappend .RECIPEPREFIX \"\"\nnth\t4294967295\tunset\t\".RECIPEPREFIX\"\nredo\nunrule b\nbegin\n\"unset\" endef\nend\nundo\n", Ok (on_line 1 (Apply (AddLine (AfterVar None (codes ".RECIPEPREFIX")) (NewAssign (codes "t") Shell (codes "-include2")))) ∷ on_line 2 (Apply (AddRecipe None (codes "b") Last (codes "cÿ"))) ∷ on_line 3 (Apply (AddLine (BeforeRule None (codes "b")) (NewRule (codes ".PHONY ${c}") Single (codes "\\ .PHONY")))) ∷ on_line 4 (Apply (ChangeValue (One None) (codes ".RECIPEPREFIX") (edits.Append []))) ∷ on_line 5 (Apply (RemoveLines (OfAssign (Some 4294967295) (codes ".RECIPEPREFIX")))) ∷ on_line 6 Redo ∷ on_line 7 (Apply (RemoveLines (OfRule None (codes "b")))) ∷ on_line 8 Begin ∷ on_line 9 (Apply (RemoveLines (OfAssign None (codes "endef")))) ∷ on_line 10 End ∷ on_line 11 Undo ∷ [])) ∷  -- random-583
    (codes "assign  bottom  a.b  ?=  %.c\n unset a.b\nredo\nassign bottom t1 += \"c foo\"\n set t1 \"| t\"\nrule after-var Y! \"$(s\\\\) c\" \"::\" \"a&b ${c}\"\nnth \"000\" append t1 \"%.c -include2\"\nunset t1\nunrule $(q:;=|)\nrule \"bottom\" \"${g(} $x\" :: \"\"\n", Ok (on_line 1 (Apply (AddLine Bottom (NewAssign (codes "a.b") Conditional (codes "%.c")))) ∷ on_line 2 (Apply (RemoveLines (OfAssign None (codes "a.b")))) ∷ on_line 3 Redo ∷ on_line 4 (Apply (AddLine Bottom (NewAssign (codes "t1") Append (codes "c foo")))) ∷ on_line 5 (Apply (ChangeValue (One None) (codes "t1") (edits.Set (codes "| t")))) ∷ on_line 6 (Apply (AddLine (AfterVar None (codes "Y!")) (NewRule (codes "$(s\\) c") Double (codes "a&b ${c}")))) ∷ on_line 7 (Apply (ChangeValue (One (Some 0)) (codes "t1") (edits.Append (codes "%.c -include2")))) ∷ on_line 8 (Apply (RemoveLines (OfAssign None (codes "t1")))) ∷ on_line 9 (Apply (RemoveLines (OfRule None (codes "$(q:;=|)")))) ∷ on_line 10 (Apply (AddLine Bottom (NewRule (codes "${g(} $x") Double []))) ∷ [])) ∷  -- random-584
    (codes "append Y \"$(f {)x  y  %.o\"\nappend Y \"1\"\nundo\nundo\nassign bottom define ?= \"x.o |\"\n", Ok (on_line 1 (Apply (ChangeValue (One None) (codes "Y") (edits.Append (codes "$(f {)x  y  %.o")))) ∷ on_line 2 (Apply (ChangeValue (One None) (codes "Y") (edits.Append (codes "1")))) ∷ on_line 3 Undo ∷ on_line 4 Undo ∷ on_line 5 (Apply (AddLine Bottom (NewAssign (codes "define") Conditional (codes "x.o |")))) ∷ [])) ∷  -- random-585
    (codes "recipe  \"$(p #)\"  \"e f \\\\ g\"\n\"undepend\"\t\"$(p #)\"\tfoo\n\"rename\" at $$\nundepend  $$  u\ncancel\n", Ok (on_line 1 (Apply (AddRecipe None (codes "$(p #)") Last (codes "e f \\ g"))) ∷ on_line 2 (Apply (ChangePrereqs None (codes "$(p #)") (RemovePrereq (codes "foo")))) ∷ on_line 3 (Apply (RenameTarget (codes "at") (codes "$$"))) ∷ on_line 4 (Apply (ChangePrereqs None (codes "$$") (RemovePrereq (codes "u")))) ∷ on_line 5 Cancel ∷ [])) ∷  -- random-586
    (codes "assign bottom define += $$\r\nredo\r\n\"unset\" X\r\n\"recipe-set\" -include2 001 define\r\n\"assign\"  bottom  \"override\"  +=  \"${g(} |\"\r\nundo\r\nbegin\r\nrename -include2 $(s\\)\r\n\"unrule\" $(s\\)", Ok (on_line 1 (Apply (AddLine Bottom (NewAssign (codes "define") Append (codes "$$")))) ∷ on_line 2 Redo ∷ on_line 3 (Apply (RemoveLines (OfAssign None (codes "X")))) ∷ on_line 4 (Apply (SetRecipe None (codes "-include2") (ByNumber 1) (codes "define"))) ∷ on_line 5 (Apply (AddLine Bottom (NewAssign (codes "override") Append (codes "${g(} |")))) ∷ on_line 6 Undo ∷ on_line 7 Begin ∷ on_line 8 (Apply (RenameTarget (codes "-include2") (codes "$(s\\)"))) ∷ on_line 9 (Apply (RemoveLines (OfRule None (codes "$(s\\)")))) ∷ [])) ∷  -- random-587
    (codes "recipe $(s\\) define\r\nassign bottom override += \"\"\r\nundo\r\nrule \"bottom\" %.c \":\" \"$$ -include2\"\r\nnth \"1\" depend-order $x a\r\nrecipe %.c \" a\"\r\n\"depend-order\" $$ $x\r\nundepend\t%.c\t\"-include2\"\r\ncancel\r\nunrule %.c\r\nrule bottom $(s\\) :: \"$(a b) -include2\"\r\nrecipe  \"$(s\\\\)\"  \"x\"", Ok (on_line 1 (Apply (AddRecipe None (codes "$(s\\)") Last (codes "define"))) ∷ on_line 2 (Apply (AddLine Bottom (NewAssign (codes "override") Append []))) ∷ on_line 3 Undo ∷ on_line 4 (Apply (AddLine Bottom (NewRule (codes "%.c") Single (codes "$$ -include2")))) ∷ on_line 5 (Apply (ChangePrereqs (Some 1) (codes "$x") (AddPrereq true (codes "a")))) ∷ on_line 6 (Apply (AddRecipe None (codes "%.c") Last (codes " a"))) ∷ on_line 7 (Apply (ChangePrereqs None (codes "$$") (AddPrereq true (codes "$x")))) ∷ on_line 8 (Apply (ChangePrereqs None (codes "%.c") (RemovePrereq (codes "-include2")))) ∷ on_line 9 Cancel ∷ on_line 10 (Apply (RemoveLines (OfRule None (codes "%.c")))) ∷ on_line 11 (Apply (AddLine Bottom (NewRule (codes "$(s\\)") Double (codes "$(a b) -include2")))) ∷ on_line 12 (Apply (AddRecipe None (codes "$(s\\)") Last (codes "x"))) ∷ [])) ∷  -- random-588
    (codes "assign\t\"bottom\"\tY\t!=\t$(s\\)\r\nassign \"bottom\" >q != $#\r\nrule\tafter-var\t.RECIPEPREFIX\t\"$(f {) foo\"\t:\t$$\r\nnth\t1\trule\tbefore-var\t\".RECIPEPREFIX\"\t\"$x ${g(}\"\t\"::\"\t\"foo foo\"\r\nassign before-var .RECIPEPREFIX \"define\" != foo\r\nrule \"after-var\" .RECIPEPREFIX \"\" : \"\"\r\nrule\t\"after-var\"\t.RECIPEPREFIX\t\"c\"\t\"::\"\t\"b&\"", Ok (on_line 1 (Apply (AddLine Bottom (NewAssign (codes "Y") Shell (codes "$(s\\)")))) ∷ on_line 2 (Apply (AddLine Bottom (NewAssign (codes ">q") Shell (codes "$#")))) ∷ on_line 3 (Apply (AddLine (AfterVar None (codes ".RECIPEPREFIX")) (NewRule (codes "$(f {) foo") Single (codes "$$")))) ∷ on_line 4 (Apply (AddLine (BeforeVar (Some 1) (codes ".RECIPEPREFIX")) (NewRule (codes "$x ${g(}") Double (codes "foo foo")))) ∷ on_line 5 (Apply (AddLine (BeforeVar None (codes ".RECIPEPREFIX")) (NewAssign (codes "define") Shell (codes "foo")))) ∷ on_line 6 (Apply (AddLine (AfterVar None (codes ".RECIPEPREFIX")) (NewRule [] Single []))) ∷ on_line 7 (Apply (AddLine (AfterVar None (codes ".RECIPEPREFIX")) (NewRule (codes "c") Double (codes "b&")))) ∷ [])) ∷  -- random-589
    (codes "rename c \"$(a b)\"\n", Ok (on_line 1 (Apply (RenameTarget (codes "c") (codes "$(a b)"))) ∷ [])) ∷  -- random-591
    (codes " rule bottom \"%.o .PHONY\" :: \"\"\nassign \"before-rule\" \".PHONY\" >q != =\nbegin\n\"rename\" .PHONY %.c\nundepend %.c b", Ok (on_line 1 (Apply (AddLine Bottom (NewRule (codes "%.o .PHONY") Double []))) ∷ on_line 2 (Apply (AddLine (BeforeRule None (codes ".PHONY")) (NewAssign (codes ">q") Shell (codes "=")))) ∷ on_line 3 Begin ∷ on_line 4 (Apply (RenameTarget (codes ".PHONY") (codes "%.c"))) ∷ on_line 5 (Apply (ChangePrereqs None (codes "%.c") (RemovePrereq (codes "b")))) ∷ [])) ∷  -- random-593
    (codes "set >q \"2 3 a&b\"\nunset ab\nassign bottom \"e\" != \"$(a b)\"\n", Ok (on_line 1 (Apply (ChangeValue (One None) (codes ">q") (edits.Set (codes "2 3 a&b")))) ∷ on_line 2 (Apply (RemoveLines (OfAssign None (codes "ab")))) ∷ on_line 3 (Apply (AddLine Bottom (NewAssign (codes "e") Shell (codes "$(a b)")))) ∷ [])) ∷  -- random-594
    (codes "nth\t2\tundepend\tc\t\"c\"\n", Ok (on_line 1 (Apply (ChangePrereqs (Some 2) (codes "c") (RemovePrereq (codes "c")))) ∷ [])) ∷  -- random-595
    (codes "end\nunset \"a.b\"\nrule before-rule \"%.c\" a \"::\" %.c\n", Ok (on_line 1 End ∷ on_line 2 (Apply (RemoveLines (OfAssign None (codes "a.b")))) ∷ on_line 3 (Apply (AddLine (BeforeRule None (codes "%.c")) (NewRule (codes "a") Double (codes "%.c")))) ∷ [])) ∷  -- random-596
    (codes "nth \"4294967295\" undepend \"x.o\" ${c}\n undepend x.o \"$(f {)\"\n\"nth\" 4294967295 unrule y\nnth 1 unset CC\nunrule \"$(a b)\"\nbegin\nset Y! \"-include2\"\nundepend x.o $x\n", Ok (on_line 1 (Apply (ChangePrereqs (Some 4294967295) (codes "x.o") (RemovePrereq (codes "${c}")))) ∷ on_line 2 (Apply (ChangePrereqs None (codes "x.o") (RemovePrereq (codes "$(f {)")))) ∷ on_line 3 (Apply (RemoveLines (OfRule (Some 4294967295) (codes "y")))) ∷ on_line 4 (Apply (RemoveLines (OfAssign (Some 1) (codes "CC")))) ∷ on_line 5 (Apply (RemoveLines (OfRule None (codes "$(a b)")))) ∷ on_line 6 Begin ∷ on_line 7 (Apply (ChangeValue (One None) (codes "Y!") (edits.Set (codes "-include2")))) ∷ on_line 8 (Apply (ChangePrereqs None (codes "x.o") (RemovePrereq (codes "$x")))) ∷ [])) ∷  -- random-597
    (codes "unrule c\nnth \"4294967295\" set override \"\"\nassign bottom e :::= \"%.o\"\nassign bottom CC ?= \"\"\nunset CC\n", Ok (on_line 1 (Apply (RemoveLines (OfRule None (codes "c")))) ∷ on_line 2 (Apply (ChangeValue (One (Some 4294967295)) (codes "override") (edits.Set []))) ∷ on_line 3 (Apply (AddLine Bottom (NewAssign (codes "e") Immediate (codes "%.o")))) ∷ on_line 4 (Apply (AddLine Bottom (NewAssign (codes "CC") Conditional []))) ∷ on_line 5 (Apply (RemoveLines (OfAssign None (codes "CC")))) ∷ [])) ∷  -- random-599
    (codes "rule before-rule \"$(f {)\" \"\" :: \"\"\nundo\n assign \"bottom\" CC ?= \"= ${g(}\"\nrename \"$(f {)\" t\n", Ok (on_line 1 (Apply (AddLine (BeforeRule None (codes "$(f {)")) (NewRule [] Double []))) ∷ on_line 2 Undo ∷ on_line 3 (Apply (AddLine Bottom (NewAssign (codes "CC") Conditional (codes "= ${g(}")))) ∷ on_line 4 (Apply (RenameTarget (codes "$(f {)") (codes "t"))) ∷ [])) ∷  -- random-600
    []

answers_11 : map (λ row. read_script row.0) rows_11 ≡ map (λ row. row.1) rows_11
unfolding line_len lines_from
answers_11 = refl
