-- Scripts and what they mean. Made by `tests/definitions/script_rows.py tests/cases/further-runs.tsv tests/cases/further-edits.tsv`.
use Rattle.std.proofs.Common.{◌≡◌, refl, ℕ, true, false, List, [], ◌∷◌, map, Some, None}
use Rattle.std.specs.Prelude.{codes, Result, Ok, Err}
use Rattle.bstr.specs.Text.{line_len, lines_from}
use Rattle.mk_class.specs.declared.assignment.Flavor.TheVariants.{Recursive, Simple, PosixSimple, Immediate, Conditional, Append, Shell}
use Rattle.mk_edit_language.specs.declared.edit.RuleSeparator.TheVariants.{Single, Double}
use Rattle.mk_edit_language.specs.declared.edit.Side.TheVariants.{Before, After}
use Rattle.mk_edit_language.specs.Edits.{Top, Bottom, AfterLastVar, BeforeVar, AfterVar, BeforeRule, AfterRule, BeforeRun, AfterRun}
use Rattle.mk_edit_language.specs.Edits.{One, Every, NewAssign, NewRule, AddPrereq, RemovePrereq, ReplacePrereq, ByNumber, ByText, Last, At, OfAssign, OfRule, OfRecipe, CommentOut, Uncomment, AtPlace, OfRun, OfRuleRun, ChangeEach, SubstValues, SubstRecipe, SubstRecipes, ChangeValue, ChangeLine, ChangePrereqs, AddLine, AddRecipe, SetRecipe, RemoveLines, SwitchLine, RenameTarget, ExchangeLines, EachLine}
use Rattle.mk_edit_language.specs.Edits as edits
use Rattle.mk_edit_language.specs.LineRuns.{block_lines}
use Rattle.mk_history.specs.Machine.{Apply, Undo, Redo, Begin, End, Cancel}
use Rattle.mk_script.specs.Scripts.{Step, Chain}
use Rattle.mk_rows.proofs.scripts.ScriptReader.{on_line, edit_on, tried_on, read_script}

abbrev rows_1 : List (List ℕ × Result (List Step) ℕ)
rows_1 =
    (codes "insert bottom <<E\nY = 2\nifdef A\nE\nundo\n", Ok (on_line 1 (Apply (ExchangeLines (AtPlace Bottom) (block_lines (codes "Y = 2\nifdef A")))) ∷ on_line 5 Undo ∷ [])) ∷  -- further-run-0
    (codes "insert bottom <<E\nY = 2\n# n\nE\nset X 2\nundo\nundo\nredo\n", Ok (on_line 1 (Apply (ExchangeLines (AtPlace Bottom) (block_lines (codes "Y = 2\n# n")))) ∷ on_line 5 (Apply (ChangeValue (One None) (codes "X") (edits.Set (codes "2")))) ∷ on_line 6 Undo ∷ on_line 7 Undo ∷ on_line 8 Redo ∷ [])) ∷  -- further-run-1
    (codes "insert top <<A\n# 1\nA\ninsert top <<A\n# 2\nA\ninsert top <<A\n# 3\nA\nundo\nundo\nundo\n", Ok (on_line 1 (Apply (ExchangeLines (AtPlace Top) (block_lines (codes "# 1")))) ∷ on_line 4 (Apply (ExchangeLines (AtPlace Top) (block_lines (codes "# 2")))) ∷ on_line 7 (Apply (ExchangeLines (AtPlace Top) (block_lines (codes "# 3")))) ∷ on_line 10 Undo ∷ on_line 11 Undo ∷ on_line 12 Undo ∷ [])) ∷  -- further-run-2
    (codes "begin\nrule-remove a\nrule-replace b <<E\nb: c\n\ttrue\nE\nend\nundo\nredo\n", Ok (on_line 1 Begin ∷ on_line 2 (Apply (ExchangeLines (OfRuleRun None (codes "a")) [])) ∷ on_line 3 (Apply (ExchangeLines (OfRuleRun None (codes "b")) (block_lines (codes "b: c\n\ttrue")))) ∷ on_line 7 End ∷ on_line 8 Undo ∷ on_line 9 Redo ∷ [])) ∷  -- further-run-3
    (codes "begin\nrule-remove a\nrule-replace b <<E\nb: c\n\ttrue\nE\ncancel\n", Ok (on_line 1 Begin ∷ on_line 2 (Apply (ExchangeLines (OfRuleRun None (codes "a")) [])) ∷ on_line 3 (Apply (ExchangeLines (OfRuleRun None (codes "b")) (block_lines (codes "b: c\n\ttrue")))) ∷ on_line 7 Cancel ∷ [])) ∷  -- further-run-4
    (codes "begin\nrule-remove a\nundo\nend\nundo\nredo\n", Ok (on_line 1 Begin ∷ on_line 2 (Apply (ExchangeLines (OfRuleRun None (codes "a")) [])) ∷ on_line 3 Undo ∷ on_line 4 End ∷ on_line 5 Undo ∷ on_line 6 Redo ∷ [])) ∷  -- further-run-5
    (codes "add-after S a.c x.c\ntry add-after S a.c x.c\nadd-before S a.c w.c\nundo\n", Ok (on_line 1 (Apply (ChangeLine None (codes "S") (edits.InsertWord After (codes "a.c") (codes "x.c")))) ∷ tried_on 2 (ChangeLine None (codes "S") (edits.InsertWord After (codes "a.c") (codes "x.c"))) ∷ on_line 3 (Apply (ChangeLine None (codes "S") (edits.InsertWord Before (codes "a.c") (codes "w.c")))) ∷ on_line 4 Undo ∷ [])) ∷  -- further-run-6
    (codes "add-after S b.c x.c\nor add-after S a.c x.c\n", Ok (Chain (edit_on 1 (ChangeLine None (codes "S") (edits.InsertWord After (codes "b.c") (codes "x.c")))) (edit_on 2 (ChangeLine None (codes "S") (edits.InsertWord After (codes "a.c") (codes "x.c")))) [] ∷ [])) ∷  -- further-run-7
    (codes "add-after T a.c x.c\nor add-after S a.c x.c\nor set S b\n", Ok (Chain (edit_on 1 (ChangeLine None (codes "T") (edits.InsertWord After (codes "a.c") (codes "x.c")))) (edit_on 2 (ChangeLine None (codes "S") (edits.InsertWord After (codes "a.c") (codes "x.c")))) ((edit_on 3 (ChangeValue (One None) (codes "S") (edits.Set (codes "b")))) ∷ []) ∷ [])) ∷  -- further-run-8
    (codes "line-remove Q\nor insert bottom <<E\nor set X 2\nE\nor set X 3\n", Ok (Chain (edit_on 1 (ExchangeLines (OfRun None (block_lines (codes "Q"))) [])) (edit_on 2 (ExchangeLines (AtPlace Bottom) (block_lines (codes "or set X 2")))) ((edit_on 5 (ChangeValue (One None) (codes "X") (edits.Set (codes "3")))) ∷ []) ∷ [])) ∷  -- further-run-9
    (codes "rule-replace c <<E\nc:\n\tx\nE\nor insert bottom <<E\nc:\n\tx\nE\n", Ok (Chain (edit_on 1 (ExchangeLines (OfRuleRun None (codes "c")) (block_lines (codes "c:\n\tx")))) (edit_on 5 (ExchangeLines (AtPlace Bottom) (block_lines (codes "c:\n\tx")))) [] ∷ [])) ∷  -- further-run-10
    (codes "try rule-replace c <<E\nc:\n\tx\nE\ntry rule-replace c <<E\nc:\n\tx\nE\n", Ok (tried_on 1 (ExchangeLines (OfRuleRun None (codes "c")) (block_lines (codes "c:\n\tx"))) ∷ tried_on 5 (ExchangeLines (OfRuleRun None (codes "c")) (block_lines (codes "c:\n\tx"))) ∷ [])) ∷  -- further-run-12
    (codes "try set-if T c d\nall set-if T a b\nset-if T b c\n", Ok (tried_on 1 (ChangeValue (One None) (codes "T") (edits.SetIf (codes "c") (codes "d"))) ∷ on_line 2 (Apply (ChangeValue Every (codes "T") (edits.SetIf (codes "a") (codes "b")))) ∷ on_line 3 (Apply (ChangeValue (One None) (codes "T") (edits.SetIf (codes "b") (codes "c")))) ∷ [])) ∷  -- further-run-13
    (codes "set-if Q a b\nor set-if T c d\nor set T e\n", Ok (Chain (edit_on 1 (ChangeValue (One None) (codes "Q") (edits.SetIf (codes "a") (codes "b")))) (edit_on 2 (ChangeValue (One None) (codes "T") (edits.SetIf (codes "c") (codes "d")))) ((edit_on 3 (ChangeValue (One None) (codes "T") (edits.Set (codes "e")))) ∷ []) ∷ [])) ∷  -- further-run-14
    (codes "uncomment D\nor assign bottom D = 1\ntry uncomment D\n", Ok (Chain (edit_on 1 (SwitchLine Uncomment None (codes "D"))) (edit_on 2 (AddLine Bottom (NewAssign (codes "D") Recursive (codes "1")))) [] ∷ tried_on 3 (SwitchLine Uncomment None (codes "D")) ∷ [])) ∷  -- further-run-15
    (codes "comment-out D\nuncomment D\ncomment-out D\nundo\nundo\nredo\nredo\nredo\n", Ok (on_line 1 (Apply (SwitchLine CommentOut None (codes "D"))) ∷ on_line 2 (Apply (SwitchLine Uncomment None (codes "D"))) ∷ on_line 3 (Apply (SwitchLine CommentOut None (codes "D"))) ∷ on_line 4 Undo ∷ on_line 5 Undo ∷ on_line 6 Redo ∷ on_line 7 Redo ∷ on_line 8 Redo ∷ [])) ∷  -- further-run-16
    (codes "recipe-subst t -s -g\nundo\nnth 2 recipe-subst t -s -g\n", Ok (on_line 1 (Apply (EachLine (SubstRecipe None (codes "t") (codes "-s") (codes "-g")))) ∷ on_line 2 Undo ∷ on_line 3 (Apply (EachLine (SubstRecipe (Some 2) (codes "t") (codes "-s") (codes "-g")))) ∷ [])) ∷  -- further-run-17
    (codes "assign after-last-var C C += b\nassign after-last-var C C += c\nundo\nundo\nredo\n", Ok (on_line 1 (Apply (AddLine (AfterLastVar (codes "C")) (NewAssign (codes "C") Append (codes "b")))) ∷ on_line 2 (Apply (AddLine (AfterLastVar (codes "C")) (NewAssign (codes "C") Append (codes "c")))) ∷ on_line 3 Undo ∷ on_line 4 Undo ∷ on_line 5 Redo ∷ [])) ∷  -- further-run-18
    (codes "# c\n\ninsert top <<E\n\n# not a comment\n  set X 2\nE\nset X 2\n", Ok (on_line 3 (Apply (ExchangeLines (AtPlace Top) (block_lines (codes "\n# not a comment\n  set X 2")))) ∷ on_line 8 (Apply (ChangeValue (One None) (codes "X") (edits.Set (codes "2")))) ∷ [])) ∷  -- further-run-19
    (codes "insert top <<E\r\n# a\r\n# b\r\nE\r\nset X 2\r\n", Ok (on_line 1 (Apply (ExchangeLines (AtPlace Top) (block_lines (codes "# a\n# b")))) ∷ on_line 5 (Apply (ChangeValue (One None) (codes "X") (edits.Set (codes "2")))) ∷ [])) ∷  -- further-run-20
    (codes "set X 2\ninsert top <<E\n# a\nFE\n", Err 2) ∷  -- further-run-21
    (codes "line-replace \"X = 1\" <<E\nX = 2\nE\nline-replace \"X = 1\" <<E\nX = 2\nE\nset X\n", Err 7) ∷  -- further-run-22
    (codes "depend-replace a b c\ntry depend-replace a b c\ndepend-replace a c d\nundo\nundo\nundo\n", Ok (on_line 1 (Apply (ChangePrereqs None (codes "a") (ReplacePrereq (codes "b") (codes "c")))) ∷ tried_on 2 (ChangePrereqs None (codes "a") (ReplacePrereq (codes "b") (codes "c"))) ∷ on_line 3 (Apply (ChangePrereqs None (codes "a") (ReplacePrereq (codes "c") (codes "d")))) ∷ on_line 4 Undo ∷ on_line 5 Undo ∷ on_line 6 Undo ∷ [])) ∷  -- further-run-23
    (codes "begin\nvalues-subst a c\nrecipes-subst b d\nend\nundo\nredo\nundo\n", Ok (on_line 1 Begin ∷ on_line 2 (Apply (EachLine (SubstValues (codes "a") (codes "c")))) ∷ on_line 3 (Apply (EachLine (SubstRecipes (codes "b") (codes "d")))) ∷ on_line 4 End ∷ on_line 5 Undo ∷ on_line 6 Redo ∷ on_line 7 Undo ∷ [])) ∷  -- further-run-24
    (codes "insert after-last-var X <<E\nX = 2\n# n\nE\ninsert after-last-var X <<E\nX = 2\n# n\nE", Ok (on_line 1 (Apply (ExchangeLines (AtPlace (AfterLastVar (codes "X"))) (block_lines (codes "X = 2\n# n")))) ∷ on_line 5 (Apply (ExchangeLines (AtPlace (AfterLastVar (codes "X"))) (block_lines (codes "X = 2\n# n")))) ∷ [])) ∷  -- further-run-25
    (codes "insert after-rule c <<E\n\tx\n\nd:\nE\ninsert after-rule c <<E\n\tx\n\nd:\nE", Ok (on_line 1 (Apply (ExchangeLines (AtPlace (AfterRule None (codes "c"))) (block_lines (codes "\tx\n\nd:")))) ∷ on_line 6 (Apply (ExchangeLines (AtPlace (AfterRule None (codes "c"))) (block_lines (codes "\tx\n\nd:")))) ∷ [])) ∷  -- further-run-26
    (codes "insert after-rule c <<E\nifdef A\n\tx\nendif\nE\ninsert after-rule c <<E\nifdef A\n\tx\nendif\nE", Ok (on_line 1 (Apply (ExchangeLines (AtPlace (AfterRule None (codes "c"))) (block_lines (codes "ifdef A\n\tx\nendif")))) ∷ on_line 6 (Apply (ExchangeLines (AtPlace (AfterRule None (codes "c"))) (block_lines (codes "ifdef A\n\tx\nendif")))) ∷ [])) ∷  -- further-run-27
    (codes "insert before-var X \"X = 0\"\ninsert before-var X \"X = 0\"", Ok (on_line 1 (Apply (ExchangeLines (AtPlace (BeforeVar None (codes "X"))) (block_lines (codes "X = 0")))) ∷ on_line 2 (Apply (ExchangeLines (AtPlace (BeforeVar None (codes "X"))) (block_lines (codes "X = 0")))) ∷ [])) ∷  -- further-run-28
    (codes "line-replace X <<E\nX\nX\nE\nline-replace X <<E\nX\nX\nE", Ok (on_line 1 (Apply (ExchangeLines (OfRun None (block_lines (codes "X"))) (block_lines (codes "X\nX")))) ∷ on_line 5 (Apply (ExchangeLines (OfRun None (block_lines (codes "X"))) (block_lines (codes "X\nX")))) ∷ [])) ∷  -- further-run-29
    (codes "nth 1 set-if T b c\nnth 1 set-if T b c", Ok (on_line 1 (Apply (ChangeValue (One (Some 1)) (codes "T") (edits.SetIf (codes "b") (codes "c")))) ∷ on_line 2 (Apply (ChangeValue (One (Some 1)) (codes "T") (edits.SetIf (codes "b") (codes "c")))) ∷ [])) ∷  -- further-run-30
    (codes "replace F a \"a x\"\nreplace F a \"a x\"", Ok (on_line 1 (Apply (ChangeLine None (codes "F") (edits.ReplaceWord (codes "a") (codes "a x")))) ∷ on_line 2 (Apply (ChangeLine None (codes "F") (edits.ReplaceWord (codes "a") (codes "a x")))) ∷ [])) ∷  -- further-run-31
    (codes "insert after-rule a \"\tx\"\ninsert after-rule a \"\tx\"", Ok (on_line 1 (Apply (ExchangeLines (AtPlace (AfterRule None (codes "a"))) (block_lines (codes "\tx")))) ∷ on_line 2 (Apply (ExchangeLines (AtPlace (AfterRule None (codes "a"))) (block_lines (codes "\tx")))) ∷ [])) ∷  -- further-run-32
    (codes "rule-replace a <<E\n# mine\na: b\n\ty\nE\ntry rule-replace a <<E\n# mine\na: b\n\ty\nE", Ok (on_line 1 (Apply (ExchangeLines (OfRuleRun None (codes "a")) (block_lines (codes "# mine\na: b\n\ty")))) ∷ tried_on 6 (ExchangeLines (OfRuleRun None (codes "a")) (block_lines (codes "# mine\na: b\n\ty"))) ∷ [])) ∷  -- further-run-33
    (codes "insert after-last-var <<E x\nX\nE", Err 2) ∷  -- further-run-34
    (codes "comment-out X\nuncomment X", Ok (on_line 1 (Apply (SwitchLine CommentOut None (codes "X"))) ∷ on_line 2 (Apply (SwitchLine Uncomment None (codes "X"))) ∷ [])) ∷  -- further-run-35
    (codes "insert top <<E\nE", Err 1) ∷  -- further-run-37
    (codes "# c\ninsert top <<E\nx", Err 2) ∷  -- further-run-38
    (codes "line-replace <<A <<B\nX = 1\nA\nB", Err 1) ∷  -- further-run-39
    (codes "insert top <<E\r\nx\r\nE\r", Err 1) ∷  -- further-run-40
    (codes "line-remove Q\n# c\nor insert bottom <<E\nY\nE\nor set X 2", Ok (Chain (edit_on 1 (ExchangeLines (OfRun None (block_lines (codes "Q"))) [])) (edit_on 3 (ExchangeLines (AtPlace Bottom) (block_lines (codes "Y")))) ((edit_on 6 (ChangeValue (One None) (codes "X") (edits.Set (codes "2")))) ∷ []) ∷ [])) ∷  -- further-run-41
    (codes "assign after-line \"X = 1\" Y = 2", Err 1) ∷  -- further-run-42
    (codes "rule before-line \"X = 1\" a : b", Err 1) ∷  -- further-run-43
    (codes "nth 1 insert top x", Err 1) ∷  -- further-run-44
    (codes "nth 1 insert after-last-var X x", Err 1) ∷  -- further-run-45
    (codes "nth 1 assign after-last-var X Y = 1", Err 1) ∷  -- further-run-46
    (codes "nth 1 rule top a : b", Err 1) ∷  -- further-run-47
    (codes "nth 1 values-subst a b", Err 1) ∷  -- further-run-48
    (codes "nth 1 recipes-subst a b", Err 1) ∷  -- further-run-49
    (codes "all uncomment X", Err 1) ∷  -- further-run-50
    (codes "all comment-out X", Err 1) ∷  -- further-run-51
    []

answers_1 : map (λ row. read_script row.0) rows_1 ≡ map (λ row. row.1) rows_1
unfolding line_len lines_from
answers_1 = refl

abbrev rows_2 : List (List ℕ × Result (List Step) ℕ)
rows_2 =
    (codes "all recipe-subst a x y", Err 1) ∷  -- further-run-52
    (codes "all add-after X a b", Err 1) ∷  -- further-run-53
    (codes "all add-before X a b", Err 1) ∷  -- further-run-54
    (codes "all rule-replace a x", Err 1) ∷  -- further-run-55
    (codes "all rule-remove a", Err 1) ∷  -- further-run-56
    (codes "all values-subst a b", Err 1) ∷  -- further-run-57
    (codes "all insert top x", Err 1) ∷  -- further-run-58
    (codes "all depend-replace a b c", Err 1) ∷  -- further-run-59
    (codes "insert after-last-var x", Err 1) ∷  -- further-run-60
    (codes "operator X ==", Err 1) ∷  -- further-run-61
    (codes "set-if X a", Err 1) ∷  -- further-run-62
    (codes "insert after-rule a <<E\nc: d\nE\ninsert after-rule a <<E\nc: d\nE", Ok (on_line 1 (Apply (ExchangeLines (AtPlace (AfterRule None (codes "a"))) (block_lines (codes "c: d")))) ∷ on_line 4 (Apply (ExchangeLines (AtPlace (AfterRule None (codes "a"))) (block_lines (codes "c: d")))) ∷ [])) ∷  -- further-run-64
    (codes "insert top A\ninsert top B\ninsert top A\ninsert top B", Ok (on_line 1 (Apply (ExchangeLines (AtPlace Top) (block_lines (codes "A")))) ∷ on_line 2 (Apply (ExchangeLines (AtPlace Top) (block_lines (codes "B")))) ∷ on_line 3 (Apply (ExchangeLines (AtPlace Top) (block_lines (codes "A")))) ∷ on_line 4 (Apply (ExchangeLines (AtPlace Top) (block_lines (codes "B")))) ∷ [])) ∷  -- further-run-65
    (codes "insert top <<E\nA\nB\nE\ninsert top <<E\nA\nB\nE", Ok (on_line 1 (Apply (ExchangeLines (AtPlace Top) (block_lines (codes "A\nB")))) ∷ on_line 5 (Apply (ExchangeLines (AtPlace Top) (block_lines (codes "A\nB")))) ∷ [])) ∷  -- further-run-66
    (codes "add-after S a b\nor set S c", Ok (Chain (edit_on 1 (ChangeLine None (codes "S") (edits.InsertWord After (codes "a") (codes "b")))) (edit_on 2 (ChangeValue (One None) (codes "S") (edits.Set (codes "c")))) [] ∷ [])) ∷  -- further-run-67
    (codes "try add-after S a b\nset S c", Ok (tried_on 1 (ChangeLine None (codes "S") (edits.InsertWord After (codes "a") (codes "b"))) ∷ on_line 2 (Apply (ChangeValue (One None) (codes "S") (edits.Set (codes "c")))) ∷ [])) ∷  -- further-run-68
    (codes "set-if X b \"\"\nset-if X \"\\\\\" c", Ok (on_line 1 (Apply (ChangeValue (One None) (codes "X") (edits.SetIf (codes "b") []))) ∷ on_line 2 (Apply (ChangeValue (One None) (codes "X") (edits.SetIf (codes "\\") (codes "c")))) ∷ [])) ∷  -- further-run-69
    (codes "line-replace <<A <<B\nX\nA\nB\n", Err 1) ∷  -- further-run-71
    (codes "line-replace <<A <<B\nA\nX\nB\n", Err 1) ∷  -- further-run-72
    (codes "insert before-line <<A <<B\nA\nX\nB\n", Err 1) ∷  -- further-run-73
    (codes "insert top \"# ours\"\ninsert top \"# ours\"", Ok (on_line 1 (Apply (ExchangeLines (AtPlace Top) (block_lines (codes "# ours")))) ∷ on_line 2 (Apply (ExchangeLines (AtPlace Top) (block_lines (codes "# ours")))) ∷ [])) ∷  -- further-run-74
    (codes "line-replace \"X = 1\" <<E\nifdef A\nX = 1\nendif\nE\nline-replace \"X = 1\" <<E\nifdef A\nX = 1\nendif\nE", Ok (on_line 1 (Apply (ExchangeLines (OfRun None (block_lines (codes "X = 1"))) (block_lines (codes "ifdef A\nX = 1\nendif")))) ∷ on_line 6 (Apply (ExchangeLines (OfRun None (block_lines (codes "X = 1"))) (block_lines (codes "ifdef A\nX = 1\nendif")))) ∷ [])) ∷  -- further-run-75
    (codes "try\tnth\t4294967295\tline-replace\t<<X\t<<end\nF::= -O2\nX\nifneq (x,)\nF::= -O2\nendif\nend\nnth 1 line-remove \"F = a\"\n\"line-replace\" <<9 <<E\nelse\n9\nelse\nE\ntry  \"comment-out\"  \"F\"\n nth 4294967295 set-if F -O2 \"= b\"", Ok (tried_on 1 (ExchangeLines (OfRun (Some 4294967295) (block_lines (codes "F::= -O2"))) (block_lines (codes "ifneq (x,)\nF::= -O2\nendif"))) ∷ on_line 8 (Apply (ExchangeLines (OfRun (Some 1) (block_lines (codes "F = a"))) [])) ∷ on_line 9 (Apply (ExchangeLines (OfRun None (block_lines (codes "else"))) (block_lines (codes "else")))) ∷ tried_on 14 (SwitchLine CommentOut None (codes "F")) ∷ on_line 15 (Apply (ChangeValue (One (Some 4294967295)) (codes "F") (edits.SetIf (codes "-O2") (codes "= b")))) ∷ [])) ∷  -- further-run-76
    (codes "nth 1 set F \"-O2 -g\"\r\nnth 001 line-replace <<EOF <<E\r\ndefine D\r\nF = a \\\r\nendef\r\nEOF\r\ndefine W\r\ndefine D\r\nF = a \\\r\nendef\r\nendef\r\nE\r\nall \"drop\" F -O2\r\nall set-if F -g \"\"\r\nundo\r\nundo\r\nline-remove \"export F!= -O2 -g\"\r\n", Ok (on_line 1 (Apply (ChangeValue (One (Some 1)) (codes "F") (edits.Set (codes "-O2 -g")))) ∷ on_line 2 (Apply (ExchangeLines (OfRun (Some 1) (block_lines (codes "define D\nF = a \\\nendef"))) (block_lines (codes "define W\ndefine D\nF = a \\\nendef\nendef")))) ∷ on_line 13 (Apply (ChangeValue Every (codes "F") (edits.Remove (codes "-O2")))) ∷ on_line 14 (Apply (ChangeValue Every (codes "F") (edits.SetIf (codes "-g") []))) ∷ on_line 15 Undo ∷ on_line 16 Undo ∷ on_line 17 (Apply (ExchangeLines (OfRun None (block_lines (codes "export F!= -O2 -g"))) [])) ∷ [])) ∷  -- further-run-77
    (codes "\"nth\" 2 add-before \"F\" \"${v a a b# d\" \"$(new a)\"\r\nrecipe-replace c \"a # b\" a\r\n \r\n or line-replace <<end <<9\r\nexport F\\\r\n?=\\\r\n\\\r\n${v a a\\\r\nb# \\\r\n d\r\nend\r\nelse\r\n9\r\ninsert top <<E\r\nE \r\n\tE\r\nE\r\n", Ok (on_line 1 (Apply (ChangeLine (Some 2) (codes "F") (edits.InsertWord Before (codes "${v a a b# d") (codes "$(new a)")))) ∷ Chain (edit_on 2 (SetRecipe None (codes "c") (ByText (codes "a # b")) (codes "a"))) (edit_on 4 (ExchangeLines (OfRun None (block_lines (codes "export F\\\n?=\\\n\\\n${v a a\\\nb# \\\n d"))) (block_lines (codes "else")))) [] ∷ on_line 14 (Apply (ExchangeLines (AtPlace Top) (block_lines (codes "E \n\tE")))) ∷ [])) ∷  -- further-run-78
    (codes "begin\n\"values-subst\" \"a\" -O3\n\n or rename \"$(w a)\" \"%.o\"\n \nor set-if a.b \"a:b  =\" b\n values-subst -O3 \"a b\"\nnth 001 add-after \"a.b\" a a\nor insert after-last-var X <<E\n#Y=\nX !=b \\\nb#\nc: $(w a)\nE\n\"or\" \"nth\" 3 \"add\" a.b a\nor nth 1 \"rule-replace\" \"c\" <<EOF\ndefine W\nc: $(w a)\n\tcc -s \\\n>y\nendef\nEOF\n", Ok (on_line 1 Begin ∷ Chain (edit_on 2 (EachLine (SubstValues (codes "a") (codes "-O3")))) (edit_on 4 (RenameTarget (codes "$(w a)") (codes "%.o"))) ((edit_on 6 (ChangeValue (One None) (codes "a.b") (edits.SetIf (codes "a:b  =") (codes "b")))) ∷ []) ∷ on_line 7 (Apply (EachLine (SubstValues (codes "-O3") (codes "a b")))) ∷ Chain (edit_on 8 (ChangeLine (Some 1) (codes "a.b") (edits.InsertWord After (codes "a") (codes "a")))) (edit_on 9 (ExchangeLines (AtPlace (AfterLastVar (codes "X"))) (block_lines (codes "#Y=\nX !=b \\\nb#\nc: $(w a)")))) ((edit_on 15 (ChangeValue (One (Some 3)) (codes "a.b") (edits.Add (codes "a")))) ∷ (edit_on 16 (ExchangeLines (OfRuleRun (Some 1) (codes "c")) (block_lines (codes "define W\nc: $(w a)\n\tcc -s \\\n>y\nendef")))) ∷ []) ∷ [])) ∷  -- further-run-79
    (codes "line-replace zz \"define D\"\ninsert \"after-last-var\" F <<O1\na: b\n\ndefine D\nO1\n\"nth\" 0 add-before F \"$(a\tb)\" -O3\n\"nth\"  2  \"line-remove\"  <<end\nF += $(a\tb)\\\n\tx=1 \\## a \\\\\n#override\texport X := b\noverride ::= ; \\\n    a\nend\n subst F \"\tb) x=1 \\\\\" \"\"\nend\n", Ok (on_line 1 (Apply (ExchangeLines (OfRun None (block_lines (codes "zz"))) (block_lines (codes "define D")))) ∷ on_line 2 (Apply (ExchangeLines (AtPlace (AfterLastVar (codes "F"))) (block_lines (codes "a: b\n\ndefine D")))) ∷ on_line 7 (Apply (ChangeLine (Some 0) (codes "F") (edits.InsertWord Before (codes "$(a\tb)") (codes "-O3")))) ∷ on_line 8 (Apply (ExchangeLines (OfRun (Some 2) (block_lines (codes "F += $(a\tb)\\\n\tx=1 \\## a \\\\\n#override\texport X := b\noverride ::= ; \\\n    a"))) [])) ∷ on_line 15 (Apply (ChangeLine None (codes "F") (edits.Substitute (codes "\tb) x=1 \\") []))) ∷ on_line 16 End ∷ [])) ∷  -- further-run-80
    (codes "line-remove  <<E\r\nF\\\r\n=-O2\t=1 \\\r\n(t \\\r\n -g) -O2\r\nE\r\nnth \"002\" \"line-replace\" \"\\\\# F is on\" <<9\r\nc: a\r\n\r\n9\r\nnth \"000\" insert \"before-line\" \"\\\\# F is on\" <<O1\r\nx \\\r\n\r\nO1\r\nor rule-remove d\r\ninsert after-last-var F <<EOF\r\nendif\r\nifdef B\r\nEOF\r\n# c\r\n\"or\" nth 2 insert after-var \"F\" <<EOF\r\nendef\r\ndefine D\r\nEOF\r\nor rule \"bottom\" \"$(s\\\\)\" :: \"foo ${g(}\"\r\n", Ok (on_line 1 (Apply (ExchangeLines (OfRun None (block_lines (codes "F\\\n=-O2\t=1 \\\n(t \\\n -g) -O2"))) [])) ∷ on_line 7 (Apply (ExchangeLines (OfRun (Some 2) (block_lines (codes "\\# F is on"))) (block_lines (codes "c: a\n")))) ∷ Chain (edit_on 11 (ExchangeLines (BeforeRun (Some 0) (block_lines (codes "\\# F is on"))) (block_lines (codes "x \\\n")))) (edit_on 15 (ExchangeLines (OfRuleRun None (codes "d")) [])) [] ∷ Chain (edit_on 16 (ExchangeLines (AtPlace (AfterLastVar (codes "F"))) (block_lines (codes "endif\nifdef B")))) (edit_on 21 (ExchangeLines (AtPlace (AfterVar (Some 2) (codes "F"))) (block_lines (codes "endef\ndefine D")))) ((edit_on 25 (AddLine Bottom (NewRule (codes "$(s\\)") Double (codes "foo ${g(}")))) ∷ []) ∷ [])) ∷  -- further-run-81
    (codes "insert after-last-var F <<O1\nifdef B\nifdef C\nendif\nendif\nO1\n\"nth\" 000 insert after-line <<_ <<X\n\t\n\tt\n_\nX = 1\n\nX\n\"append\" X \"\"\n\"rule-remove\" \"i\"\nrecipe-remove a \"rm -rf x\"\nrecipes-subst \"\\\\\" x=1\nredo\n\"append\" F a\nnth \"1\" recipe-remove a \"a # b\"\n\"nth\" 001 line-replace <<O1 <<9\nx.o: # c\n\t\nO1\nifneq (x,)\nx.o: # c\n\t\nendif\n9\n", Ok (on_line 1 (Apply (ExchangeLines (AtPlace (AfterLastVar (codes "F"))) (block_lines (codes "ifdef B\nifdef C\nendif\nendif")))) ∷ on_line 7 (Apply (ExchangeLines (AfterRun (Some 0) (block_lines (codes "\t\n\tt"))) (block_lines (codes "X = 1\n")))) ∷ on_line 14 (Apply (ChangeValue (One None) (codes "X") (edits.Append []))) ∷ on_line 15 (Apply (ExchangeLines (OfRuleRun None (codes "i")) [])) ∷ on_line 16 (Apply (RemoveLines (OfRecipe None (codes "a") (ByText (codes "rm -rf x"))))) ∷ on_line 17 (Apply (EachLine (SubstRecipes (codes "\\") (codes "x=1")))) ∷ on_line 18 Redo ∷ on_line 19 (Apply (ChangeValue (One None) (codes "F") (edits.Append (codes "a")))) ∷ on_line 20 (Apply (RemoveLines (OfRecipe (Some 1) (codes "a") (ByText (codes "a # b"))))) ∷ on_line 21 (Apply (ExchangeLines (OfRun (Some 1) (block_lines (codes "x.o: # c\n\t"))) (block_lines (codes "ifneq (x,)\nx.o: # c\n\t\nendif")))) ∷ [])) ∷  -- further-run-82
    (codes "uncomment F\nprepend F \"\t\"\nor  insert  top  <<_\nifdef B\nifdef C\nendif\nendif\n_\n# c\nor nth 1 add-before F -g -lz\n", Ok (on_line 1 (Apply (SwitchLine Uncomment None (codes "F"))) ∷ Chain (edit_on 2 (ChangeLine None (codes "F") (edits.Prepend (codes "\t")))) (edit_on 3 (ExchangeLines (AtPlace Top) (block_lines (codes "ifdef B\nifdef C\nendif\nendif")))) ((edit_on 10 (ChangeLine (Some 1) (codes "F") (edits.InsertWord Before (codes "-g") (codes "-lz")))) ∷ []) ∷ [])) ∷  -- further-run-83
    (codes "try values-subst a $\\\nnth \"4294967295\" add-before \"override\" $x \"$(new a)\"\nor\tassign\tafter-last-var\toverride\tt\t=\t\"\"\n\"or\"\t\"replace\"\toverride\t\"-O2\"\ta:b\n \"add\"  t  a\nsubst override -O2 \"a b\"\ntry insert \"after-last-var\" override <<end\n# a \\\n b\nend\nadd-before  \"override\"  $x  \"$(s (b) a)\"\n", Ok (tried_on 1 (EachLine (SubstValues (codes "a") (codes "$\\"))) ∷ Chain (edit_on 2 (ChangeLine (Some 4294967295) (codes "override") (edits.InsertWord Before (codes "$x") (codes "$(new a)")))) (edit_on 3 (AddLine (AfterLastVar (codes "override")) (NewAssign (codes "t") Recursive []))) ((edit_on 4 (ChangeLine None (codes "override") (edits.ReplaceWord (codes "-O2") (codes "a:b")))) ∷ []) ∷ on_line 5 (Apply (ChangeValue (One None) (codes "t") (edits.Add (codes "a")))) ∷ on_line 6 (Apply (ChangeLine None (codes "override") (edits.Substitute (codes "-O2") (codes "a b")))) ∷ tried_on 7 (ExchangeLines (AtPlace (AfterLastVar (codes "override"))) (block_lines (codes "# a \\\n b"))) ∷ on_line 11 (Apply (ChangeLine None (codes "override") (edits.InsertWord Before (codes "$x") (codes "$(s (b) a)")))) ∷ [])) ∷  -- further-run-84
    (codes "nth 2 line-remove \"c c:: ; true\"\n or  \"rule-remove\"  \"c\"\ninsert \"after-last-var\" X \"\"\n\n\"or\" recipe-replace \"c\" \"# n\" true\ntry \"nth\" 4294967295 recipe-remove \"c\" b\n try unset X\ninsert before-var \"F\" <<O1\nifdef A\nX = 1\nendif\nO1\n\nor nth 1 insert before-line \"\ttrue\" <<EOF\nF = a \\\n  b\nEOF\nor undepend c \"$(a b)\"\n or nth 0 recipe-remove c t\ntry recipes-subst true \"\"\ninsert bottom <<E\nx \\\n\nE\nnth\t0\trule-remove\tc\n\nor line-remove <<end\nc c:: ; true\nend\n", Ok (Chain (edit_on 1 (ExchangeLines (OfRun (Some 2) (block_lines (codes "c c:: ; true"))) [])) (edit_on 2 (ExchangeLines (OfRuleRun None (codes "c")) [])) [] ∷ Chain (edit_on 3 (ExchangeLines (AtPlace (AfterLastVar (codes "X"))) (block_lines []))) (edit_on 5 (SetRecipe None (codes "c") (ByText (codes "# n")) (codes "true"))) [] ∷ tried_on 6 (RemoveLines (OfRecipe (Some 4294967295) (codes "c") (ByText (codes "b")))) ∷ tried_on 7 (RemoveLines (OfAssign None (codes "X"))) ∷ Chain (edit_on 8 (ExchangeLines (AtPlace (BeforeVar None (codes "F"))) (block_lines (codes "ifdef A\nX = 1\nendif")))) (edit_on 14 (ExchangeLines (BeforeRun (Some 1) (block_lines (codes "\ttrue"))) (block_lines (codes "F = a \\\n  b")))) ((edit_on 18 (ChangePrereqs None (codes "c") (RemovePrereq (codes "$(a b)")))) ∷ (edit_on 19 (RemoveLines (OfRecipe (Some 0) (codes "c") (ByText (codes "t"))))) ∷ []) ∷ tried_on 20 (EachLine (SubstRecipes (codes "true") [])) ∷ on_line 21 (Apply (ExchangeLines (AtPlace Bottom) (block_lines (codes "x \\\n")))) ∷ Chain (edit_on 25 (ExchangeLines (OfRuleRun (Some 0) (codes "c")) [])) (edit_on 27 (ExchangeLines (OfRun None (block_lines (codes "c c:: ; true"))) [])) [] ∷ [])) ∷  -- further-run-85
    (codes "try nth 0 line-replace <<9 \"F = aaa aaaa # aa\"\nX\\\n:= -g = ;\n9\ninsert bottom <<_\ninclude a.mk\n\tfor f in x; do \\\ndefine D\n_\ntry uncomment F\n\"comment-out\"\t\"F\"\nbegin\n", Ok (tried_on 1 (ExchangeLines (OfRun (Some 0) (block_lines (codes "X\\\n:= -g = ;"))) (block_lines (codes "F = aaa aaaa # aa"))) ∷ on_line 5 (Apply (ExchangeLines (AtPlace Bottom) (block_lines (codes "include a.mk\n\tfor f in x; do \\\ndefine D")))) ∷ tried_on 10 (SwitchLine Uncomment None (codes "F")) ∷ on_line 11 (Apply (SwitchLine CommentOut None (codes "F"))) ∷ on_line 12 Begin ∷ [])) ∷  -- further-run-86
    (codes "line-remove <<9\r\n#X = r\\\r\n s\r\n9\r\n \"all\" set-if F \"${c} b a b\" \"$(s (b) a) =\"\r\nundo\r\nline-remove \"c d: b\"\r\n", Ok (on_line 1 (Apply (ExchangeLines (OfRun None (block_lines (codes "#X = r\\\n s"))) [])) ∷ on_line 5 (Apply (ChangeValue Every (codes "F") (edits.SetIf (codes "${c} b a b") (codes "$(s (b) a) =")))) ∷ on_line 6 Undo ∷ on_line 7 (Apply (ExchangeLines (OfRun None (block_lines (codes "c d: b"))) [])) ∷ [])) ∷  -- further-run-87
    (codes "try all set-if F \"b \\\\ b -g  a\" \"-g x$(a  b)\"\n\"comment-out\" override\n assign  after-last-var  \"F\"  F  :=  \"; $(s (b) a)\"\ntry nth 005 add-before F \";\" \"a\\\\ b\"", Ok (tried_on 1 (ChangeValue Every (codes "F") (edits.SetIf (codes "b \\ b -g  a") (codes "-g x$(a  b)"))) ∷ on_line 2 (Apply (SwitchLine CommentOut None (codes "override"))) ∷ on_line 3 (Apply (AddLine (AfterLastVar (codes "F")) (NewAssign (codes "F") Simple (codes "; $(s (b) a)")))) ∷ tried_on 4 (ChangeLine (Some 5) (codes "F") (edits.InsertWord Before (codes ";") (codes "a\\ b"))) ∷ [])) ∷  -- further-run-88
    (codes "\"insert\" before-line \"\" <<end\r\nX = 1\r\n$(call t,x)\r\nF = -g\r\nend\r\n\"try\"\t\"nth\"\t0\tline-replace\t\"X = 1\"\t<<O1\r\ntX = 1\r\n\tababa aaa\r\nO1\r\n\"insert\" after-last-var F <<EOF\r\nendef\r\ndefine D\r\nEOF\r\nline-replace \"F = -g\" <<EOF\r\ndefine W\r\nF = -g\r\nendef\r\nEOF\r\nunset  F\r\nor nth 1 \"insert\" after-var \"X\" <<EOF\r\nX = 1\r\n$(call t,x)\r\nEOF\r\n\"or\"\trule-replace\tinclude\t<<end\r\ninclude:\r\n\ttrue\r\nend\r\nor  \"prepend\"  X  \"$\"\r\nredo\r\nend\r\nnth\t2\tinsert\tafter-var\t\"X\"\t<<_\r\nifdef A\r\n\tx\r\nelse\r\n\ty\r\nendif\r\n_\r\nvalues-subst 1 $\\\r\n", Ok (on_line 1 (Apply (ExchangeLines (BeforeRun None (block_lines [])) (block_lines (codes "X = 1\n$(call t,x)\nF = -g")))) ∷ tried_on 6 (ExchangeLines (OfRun (Some 0) (block_lines (codes "X = 1"))) (block_lines (codes "tX = 1\n\tababa aaa"))) ∷ on_line 10 (Apply (ExchangeLines (AtPlace (AfterLastVar (codes "F"))) (block_lines (codes "endef\ndefine D")))) ∷ on_line 14 (Apply (ExchangeLines (OfRun None (block_lines (codes "F = -g"))) (block_lines (codes "define W\nF = -g\nendef")))) ∷ Chain (edit_on 19 (RemoveLines (OfAssign None (codes "F")))) (edit_on 20 (ExchangeLines (AtPlace (AfterVar (Some 1) (codes "X"))) (block_lines (codes "X = 1\n$(call t,x)")))) ((edit_on 24 (ExchangeLines (OfRuleRun None (codes "include")) (block_lines (codes "include:\n\ttrue")))) ∷ (edit_on 28 (ChangeLine None (codes "X") (edits.Prepend (codes "$")))) ∷ []) ∷ on_line 29 Redo ∷ on_line 30 End ∷ on_line 31 (Apply (ExchangeLines (AtPlace (AfterVar (Some 2) (codes "X"))) (block_lines (codes "ifdef A\n\tx\nelse\n\ty\nendif")))) ∷ on_line 38 (Apply (EachLine (SubstValues (codes "1") (codes "$\\")))) ∷ [])) ∷  -- further-run-89
    (codes "end\nassign bottom X = -O2\ntry\tline-replace\t<<X\t\"override += b\"\noverride += b\nX\nbegin\nset F \"$\\\\x x$(a  b)\"\nundo", Ok (on_line 1 End ∷ on_line 2 (Apply (AddLine Bottom (NewAssign (codes "X") Recursive (codes "-O2")))) ∷ tried_on 3 (ExchangeLines (OfRun None (block_lines (codes "override += b"))) (block_lines (codes "override += b"))) ∷ on_line 6 Begin ∷ on_line 7 (Apply (ChangeValue (One None) (codes "F") (edits.Set (codes "$\\x x$(a  b)")))) ∷ on_line 8 Undo ∷ [])) ∷  -- further-run-90
    (codes "undo\nundo\ntry uncomment F\nline-replace\t<<X\t<<E\n\ta\\\n b\nX\n\ta\\\n b\nelse\nE\n# c\nor\tnth\t\"4294967295\"\t\"rule-replace\"\tc\t<<end\nendif\nX = 1\nc:: a | b\n\ta\\\n b\nend\n\"or\" recipe-del \"d\" 001\n\"or\"  nth  2  replace  F  \";\"  =\nset-if F ; \"b a\"\nredo\nall values-subst a b\n", Err 24) ∷  -- further-run-91
    (codes "assign after-last-var a.b \"X\" != \"\"\r\n\"set\" a.b \\#\r\n", Ok (on_line 1 (Apply (AddLine (AfterLastVar (codes "a.b")) (NewAssign (codes "X") Shell []))) ∷ on_line 2 (Apply (ChangeValue (One None) (codes "a.b") (edits.Set (codes "\\#")))) ∷ [])) ∷  -- further-run-92
    (codes "undo\nredo\nall set-if \"a.b\" \"$(t -g)\" \"-g\"\n# c\nor nth 1 \"insert\" after-line \"export F != a\\\\\\\\ x=1 |\tx=1 | # a \\\\\\\\\" \"c: a\"\ninsert before-line \"vpath %.c a\" <<O1\nifdef A\nX = 1\nendif\nO1\nappend  a.b  -g\n\"or\" replace a.b a -g\nline-replace <<X <<EOF\nX\\\n=; a\\\\ \nX\n#X = 1\n#X = 1\nelse\nEOF\ntry append X a\ninsert after-last-var F <<X\n\n\nX\ndrop a.b \"a\"\n \n or recipe-insert c 001 true", Ok (on_line 1 Undo ∷ on_line 2 Redo ∷ Chain (edit_on 3 (ChangeValue Every (codes "a.b") (edits.SetIf (codes "$(t -g)") (codes "-g")))) (edit_on 5 (ExchangeLines (AfterRun (Some 1) (block_lines (codes "export F != a\\\\ x=1 |\tx=1 | # a \\\\"))) (block_lines (codes "c: a")))) [] ∷ on_line 6 (Apply (ExchangeLines (BeforeRun None (block_lines (codes "vpath %.c a"))) (block_lines (codes "ifdef A\nX = 1\nendif")))) ∷ Chain (edit_on 11 (ChangeValue (One None) (codes "a.b") (edits.Append (codes "-g")))) (edit_on 12 (ChangeLine None (codes "a.b") (edits.ReplaceWord (codes "a") (codes "-g")))) [] ∷ on_line 13 (Apply (ExchangeLines (OfRun None (block_lines (codes "X\\\n=; a\\\\ "))) (block_lines (codes "#X = 1\n#X = 1\nelse")))) ∷ tried_on 21 (ChangeValue (One None) (codes "X") (edits.Append (codes "a"))) ∷ on_line 22 (Apply (ExchangeLines (AtPlace (AfterLastVar (codes "F"))) (block_lines (codes "\n")))) ∷ Chain (edit_on 26 (ChangeValue (One None) (codes "a.b") (edits.Remove (codes "a")))) (edit_on 28 (AddRecipe None (codes "c") (At 1) (codes "true"))) [] ∷ [])) ∷  -- further-run-93
    (codes "undo\nnth\t4294967295\tline-remove\t\"X = 1\"\n\nor \"unset\" F\n# c\n\"or\"\tsubst\t\"X\"\t1\tyy\n try insert after-line <<end \"endef\"\nendef\nend\ninsert after-last-var X <<EOF\n# a \\\n b\nEOF\nredo\nundo\n", Ok (on_line 1 Undo ∷ Chain (edit_on 2 (ExchangeLines (OfRun (Some 4294967295) (block_lines (codes "X = 1"))) [])) (edit_on 4 (RemoveLines (OfAssign None (codes "F")))) ((edit_on 6 (ChangeLine None (codes "X") (edits.Substitute (codes "1") (codes "yy")))) ∷ []) ∷ tried_on 7 (ExchangeLines (AfterRun None (block_lines (codes "endef"))) (block_lines (codes "endef"))) ∷ on_line 10 (Apply (ExchangeLines (AtPlace (AfterLastVar (codes "X"))) (block_lines (codes "# a \\\n b")))) ∷ on_line 14 Redo ∷ on_line 15 Undo ∷ [])) ∷  -- further-run-94
    (codes "try nth \"4294967295\" \"recipe-remove\" %.o \"a\"\nassign after-rule %.o F ::= \"\"\n# c\n\"or\" all prepend override x=1\nline-remove <<O1\noverride=b \\\na |\nO1\n rule-remove \"%.o\"\n", Ok (tried_on 1 (RemoveLines (OfRecipe (Some 4294967295) (codes "%.o") (ByText (codes "a")))) ∷ Chain (edit_on 2 (AddLine (AfterRule None (codes "%.o")) (NewAssign (codes "F") PosixSimple []))) (edit_on 4 (EachLine (ChangeEach (codes "override") (edits.Prepend (codes "x=1"))))) [] ∷ on_line 5 (Apply (ExchangeLines (OfRun None (block_lines (codes "override=b \\\na |"))) [])) ∷ on_line 9 (Apply (ExchangeLines (OfRuleRun None (codes "%.o")) [])) ∷ [])) ∷  -- further-run-95
    (codes "line-remove <<X\n\n# n\nX\n\"prepend\"\tX\t\"a$ b\"\nundo\nappend X :\nline-replace <<9 <<X\n\\\n\t\n9\nifdef A\n\\\n\t\nendif\nX\n", Ok (on_line 1 (Apply (ExchangeLines (OfRun None (block_lines (codes "\n# n"))) [])) ∷ on_line 5 (Apply (ChangeLine None (codes "X") (edits.Prepend (codes "a$ b")))) ∷ on_line 6 Undo ∷ on_line 7 (Apply (ChangeValue (One None) (codes "X") (edits.Append (codes ":")))) ∷ on_line 8 (Apply (ExchangeLines (OfRun None (block_lines (codes "\\\n\t"))) (block_lines (codes "ifdef A\n\\\n\t\nendif")))) ∷ [])) ∷  -- further-run-96
    (codes "nth 4294967295 add-before a.b b -lz\ninsert top <<E\nE \n\tE\nE\nall\tdrop\t\"a.b\"\t\"b\"\nor replace a.b \"$ \" b\nredo\nrule-remove c\nall\tdrop\ta.b\t\"$ \"", Ok (on_line 1 (Apply (ChangeLine (Some 4294967295) (codes "a.b") (edits.InsertWord Before (codes "b") (codes "-lz")))) ∷ on_line 2 (Apply (ExchangeLines (AtPlace Top) (block_lines (codes "E \n\tE")))) ∷ Chain (edit_on 6 (ChangeValue Every (codes "a.b") (edits.Remove (codes "b")))) (edit_on 7 (ChangeLine None (codes "a.b") (edits.ReplaceWord (codes "$ ") (codes "b")))) [] ∷ on_line 8 Redo ∷ on_line 9 (Apply (ExchangeLines (OfRuleRun None (codes "c")) [])) ∷ on_line 10 (Apply (ChangeValue Every (codes "a.b") (edits.Remove (codes "$ ")))) ∷ [])) ∷  -- further-run-97
    (codes "add  X  -O2\ninsert before-line <<E <<E\nX = 1\nE\n# x\nE\n\"insert\" after-last-var X <<9\nc: d\n\tcp $< $@\n9\nor  assign  after-last-var  F  t  ::=  \"-g a$ b\"\nor\tadd-after\tX\t-O2\t-lz\n\"recipe\" c >\nnth 002 rule-replace c <<EOF\nc:\n\tcc -o $@ $<\n\ttrue\nEOF\n \nor add-after \"X\" | \"x=1\"\n \n\"or\" add X \\#\n\"try\"  values-subst  \"1\"  x\nundo\n", Ok (on_line 1 (Apply (ChangeValue (One None) (codes "X") (edits.Add (codes "-O2")))) ∷ on_line 2 (Apply (ExchangeLines (BeforeRun None (block_lines (codes "X = 1"))) (block_lines (codes "# x")))) ∷ Chain (edit_on 7 (ExchangeLines (AtPlace (AfterLastVar (codes "X"))) (block_lines (codes "c: d\n\tcp $< $@")))) (edit_on 11 (AddLine (AfterLastVar (codes "F")) (NewAssign (codes "t") PosixSimple (codes "-g a$ b")))) ((edit_on 12 (ChangeLine None (codes "X") (edits.InsertWord After (codes "-O2") (codes "-lz")))) ∷ []) ∷ on_line 13 (Apply (AddRecipe None (codes "c") Last (codes ">"))) ∷ Chain (edit_on 14 (ExchangeLines (OfRuleRun (Some 2) (codes "c")) (block_lines (codes "c:\n\tcc -o $@ $<\n\ttrue")))) (edit_on 20 (ChangeLine None (codes "X") (edits.InsertWord After (codes "|") (codes "x=1")))) ((edit_on 22 (ChangeValue (One None) (codes "X") (edits.Add (codes "\\#")))) ∷ []) ∷ tried_on 23 (EachLine (SubstValues (codes "1") (codes "x"))) ∷ on_line 24 Undo ∷ [])) ∷  -- further-run-98
    (codes "add-before F \"\\\\ b\" \"$(new a)\"\n# c\nor depend-replace \"a\" b \"c\"\nor nth 2 \"add-before\" F \"a\" \"a$ \"\nredo\n\"nth\" 1 add-before F \"\\\\ b\" \"$(A -g)\"\nnth\t\"1\"\tsubst\tF\t\"\\\\ b\"\t$$\n rule-remove a\nadd-after F <<E a\nassign top X = 1\n", Ok (Chain (edit_on 1 (ChangeLine None (codes "F") (edits.InsertWord Before (codes "\\ b") (codes "$(new a)")))) (edit_on 3 (ChangePrereqs None (codes "a") (ReplacePrereq (codes "b") (codes "c")))) ((edit_on 4 (ChangeLine (Some 2) (codes "F") (edits.InsertWord Before (codes "a") (codes "a$ ")))) ∷ []) ∷ on_line 5 Redo ∷ on_line 6 (Apply (ChangeLine (Some 1) (codes "F") (edits.InsertWord Before (codes "\\ b") (codes "$(A -g)")))) ∷ on_line 7 (Apply (ChangeLine (Some 1) (codes "F") (edits.Substitute (codes "\\ b") (codes "$$")))) ∷ on_line 8 (Apply (ExchangeLines (OfRuleRun None (codes "a")) [])) ∷ on_line 9 (Apply (ChangeLine None (codes "F") (edits.InsertWord After (codes "<<E") (codes "a")))) ∷ on_line 10 (Apply (AddLine Top (NewAssign (codes "X") Recursive (codes "1")))) ∷ [])) ∷  -- further-run-99
    (codes "operator a.b \"!=\"\r\n or\t\"assign\"\tafter-var\tF\tF\t::=\t\"\"\r\nnth 0 insert after-rule \"c\" endef\r\nundo\r\nline-remove \"\"\r\n or recipe-insert \"c\" \"1\" \"b\"\r\n\r\n or set-if F \"$(a\tb)\" -g\r\nset F <<E\r\nset\tF\t\"\"\r\n set-if F \"\" \"\"\r\nundo\r\n\"all\"\treplace\tF\t\"$(w a)\"\t|\r\n\"all\" set F \"$(s (b) a)\"\r\n", Ok (Chain (edit_on 1 (ChangeLine None (codes "a.b") (edits.SetOperator Shell))) (edit_on 2 (AddLine (AfterVar None (codes "F")) (NewAssign (codes "F") PosixSimple []))) [] ∷ on_line 3 (Apply (ExchangeLines (AtPlace (AfterRule (Some 0) (codes "c"))) (block_lines (codes "endef")))) ∷ on_line 4 Undo ∷ Chain (edit_on 5 (ExchangeLines (OfRun None (block_lines [])) [])) (edit_on 6 (AddRecipe None (codes "c") (At 1) (codes "b"))) ((edit_on 8 (ChangeValue (One None) (codes "F") (edits.SetIf (codes "$(a\tb)") (codes "-g")))) ∷ []) ∷ on_line 9 (Apply (ChangeValue (One None) (codes "F") (edits.Set (codes "<<E")))) ∷ on_line 10 (Apply (ChangeValue (One None) (codes "F") (edits.Set []))) ∷ on_line 11 (Apply (ChangeValue (One None) (codes "F") (edits.SetIf [] []))) ∷ on_line 12 Undo ∷ on_line 13 (Apply (EachLine (ChangeEach (codes "F") (edits.ReplaceWord (codes "$(w a)") (codes "|"))))) ∷ on_line 14 (Apply (ChangeValue Every (codes "F") (edits.Set (codes "$(s (b) a)")))) ∷ [])) ∷  -- further-run-100
    (codes "all replace \"F\" a:b b\r\nundo\r\nall set-if F a:b \"$ b ;\"\r\nrule-remove a", Ok (on_line 1 (Apply (EachLine (ChangeEach (codes "F") (edits.ReplaceWord (codes "a:b") (codes "b"))))) ∷ on_line 2 Undo ∷ on_line 3 (Apply (ChangeValue Every (codes "F") (edits.SetIf (codes "a:b") (codes "$ b ;")))) ∷ on_line 4 (Apply (ExchangeLines (OfRuleRun None (codes "a")) [])) ∷ [])) ∷  -- further-run-101
    (codes "redo\nset \"a.b\" \"a a:b\"\n\nor uncomment F\n\"all\"  prepend  F  \"$\"\n insert \"after-last-var\" F <<E\n\ttrue\nE\nundo\nrule \"after-last-var\" F c \":\" \"a b\"\n", Ok (on_line 1 Redo ∷ Chain (edit_on 2 (ChangeValue (One None) (codes "a.b") (edits.Set (codes "a a:b")))) (edit_on 4 (SwitchLine Uncomment None (codes "F"))) [] ∷ on_line 5 (Apply (EachLine (ChangeEach (codes "F") (edits.Prepend (codes "$"))))) ∷ on_line 6 (Apply (ExchangeLines (AtPlace (AfterLastVar (codes "F"))) (block_lines (codes "\ttrue")))) ∷ on_line 9 Undo ∷ on_line 10 (Apply (AddLine (AfterLastVar (codes "F")) (NewRule (codes "c") Single (codes "a b")))) ∷ [])) ∷  -- further-run-102
    (codes " try \"rule-remove\" i\n\"nth\" 7 add-before F -g \";\"\n \"all\" set F \"a\\\\ b a$ b\"\nnth 1 add-before F \"a$ b\" |\n\nor nth \"1\" add-before F \"a$ b\" x.c\nvalues-subst \\ \"\"\nassign top X = 1\ntry \"all\" drop F \"$(t -g)\"\nbegin", Ok (tried_on 1 (ExchangeLines (OfRuleRun None (codes "i")) []) ∷ on_line 2 (Apply (ChangeLine (Some 7) (codes "F") (edits.InsertWord Before (codes "-g") (codes ";")))) ∷ on_line 3 (Apply (ChangeValue Every (codes "F") (edits.Set (codes "a\\ b a$ b")))) ∷ Chain (edit_on 4 (ChangeLine (Some 1) (codes "F") (edits.InsertWord Before (codes "a$ b") (codes "|")))) (edit_on 6 (ChangeLine (Some 1) (codes "F") (edits.InsertWord Before (codes "a$ b") (codes "x.c")))) [] ∷ on_line 7 (Apply (EachLine (SubstValues (codes "\\") []))) ∷ on_line 8 (Apply (AddLine Top (NewAssign (codes "X") Recursive (codes "1")))) ∷ tried_on 9 (ChangeValue Every (codes "F") (edits.Remove (codes "$(t -g)"))) ∷ on_line 10 Begin ∷ [])) ∷  -- further-run-103
    []

answers_2 : map (λ row. read_script row.0) rows_2 ≡ map (λ row. row.1) rows_2
unfolding line_len lines_from
answers_2 = refl

abbrev rows_3 : List (List ℕ × Result (List Step) ℕ)
rows_3 =
    (codes "line-remove <<_\nelse\n# export F = a\n_\ntry\trecipe-remove\tc\t\"rm -f x\"", Ok (on_line 1 (Apply (ExchangeLines (OfRun None (block_lines (codes "else\n# export F = a"))) [])) ∷ tried_on 5 (RemoveLines (OfRecipe None (codes "c") (ByText (codes "rm -f x")))) ∷ [])) ∷  -- further-run-104
    (codes "assign top X = 1\r\nassign bottom \"endef\" :::= \"2 3 2 3\"\r\ntry nth 1 rule-remove c\r\nall prepend F b\r\nnth 2 drop X \"$(A -g)\"\r\nor depend-replace i \"x.o\" \"$x\"\r\n\r\nor rule top \"d\" :: \"\"\r\n# c\r\n\"or\" assign after-rule i F ?= \"\\\\# $\\\\x\"\r\n\"nth\" 1 depend-replace i \"a\" ${c}\r\nline-replace <<end \"\"\r\n\tfor f in x; do \\\r\n\t  cc $$f; \\\r\n\tdone\r\n\tababa aaa\r\nendef :::= 2 3 2 3\r\nend\r\nor nth 2 add-before endef \"2\" x.c\r\nor comment-out \"endef\"\r\ntry line-remove a\r", Ok (on_line 1 (Apply (AddLine Top (NewAssign (codes "X") Recursive (codes "1")))) ∷ on_line 2 (Apply (AddLine Bottom (NewAssign (codes "endef") Immediate (codes "2 3 2 3")))) ∷ tried_on 3 (ExchangeLines (OfRuleRun (Some 1) (codes "c")) []) ∷ on_line 4 (Apply (EachLine (ChangeEach (codes "F") (edits.Prepend (codes "b"))))) ∷ Chain (edit_on 5 (ChangeValue (One (Some 2)) (codes "X") (edits.Remove (codes "$(A -g)")))) (edit_on 6 (ChangePrereqs None (codes "i") (ReplacePrereq (codes "x.o") (codes "$x")))) ((edit_on 8 (AddLine Top (NewRule (codes "d") Double []))) ∷ (edit_on 10 (AddLine (AfterRule None (codes "i")) (NewAssign (codes "F") Conditional (codes "\\# $\\x")))) ∷ []) ∷ on_line 11 (Apply (ChangePrereqs (Some 1) (codes "i") (ReplacePrereq (codes "a") (codes "${c}")))) ∷ Chain (edit_on 12 (ExchangeLines (OfRun None (block_lines (codes "\tfor f in x; do \\\n\t  cc $$f; \\\n\tdone\n\tababa aaa\nendef :::= 2 3 2 3"))) (block_lines []))) (edit_on 19 (ChangeLine (Some 2) (codes "endef") (edits.InsertWord Before (codes "2") (codes "x.c")))) ((edit_on 20 (SwitchLine CommentOut None (codes "endef"))) ∷ []) ∷ tried_on 21 (ExchangeLines (OfRun None (block_lines (codes "a\r"))) []) ∷ [])) ∷  -- further-run-105
    (codes "nth  4294967295  rule-remove  \"c\"\nbegin\nend\ntry values-subst \"zz\" x\ntry\tline-replace\t<<EOF\t\"# private Y=c\"\n# private Y=c\nEOF\ntry uncomment F\n recipe-remove c \"a # b\"\ndepend-replace c \"b&\" \"foo\"\nrule-replace c <<X\nc:\nifdef A\n\tx\nendif\nX\nrecipe-insert c 4294967295 \"say \\\"q\\\"\"\n", Ok (on_line 1 (Apply (ExchangeLines (OfRuleRun (Some 4294967295) (codes "c")) [])) ∷ on_line 2 Begin ∷ on_line 3 End ∷ tried_on 4 (EachLine (SubstValues (codes "zz") (codes "x"))) ∷ tried_on 5 (ExchangeLines (OfRun None (block_lines (codes "# private Y=c"))) (block_lines (codes "# private Y=c"))) ∷ tried_on 8 (SwitchLine Uncomment None (codes "F")) ∷ on_line 9 (Apply (RemoveLines (OfRecipe None (codes "c") (ByText (codes "a # b"))))) ∷ on_line 10 (Apply (ChangePrereqs None (codes "c") (ReplacePrereq (codes "b&") (codes "foo")))) ∷ on_line 11 (Apply (ExchangeLines (OfRuleRun None (codes "c")) (block_lines (codes "c:\nifdef A\n\tx\nendif")))) ∷ on_line 17 (Apply (AddRecipe None (codes "c") (At 4294967295) (codes "say \"q\""))) ∷ [])) ∷  -- further-run-106
    (codes " \"assign\" bottom a.b \"::=\" \"$(t -g) b\"\nnth 000 recipe-remove \"c\" \"\"\nor line-replace <<X \"a: b\"\na.b ::= $(t -g) b\nX\ninsert after-line <<EOF <<end\nc d: \\\n x.o\nEOF\nX = 1\n\nend\nrule-remove a\nnth 1 \"subst\" \"X\" 1 \"a b\"\ninsert top <<-", Ok (on_line 1 (Apply (AddLine Bottom (NewAssign (codes "a.b") PosixSimple (codes "$(t -g) b")))) ∷ Chain (edit_on 2 (RemoveLines (OfRecipe (Some 0) (codes "c") (ByText [])))) (edit_on 3 (ExchangeLines (OfRun None (block_lines (codes "a.b ::= $(t -g) b"))) (block_lines (codes "a: b")))) [] ∷ on_line 6 (Apply (ExchangeLines (AfterRun None (block_lines (codes "c d: \\\n x.o"))) (block_lines (codes "X = 1\n")))) ∷ on_line 13 (Apply (ExchangeLines (OfRuleRun None (codes "a")) [])) ∷ on_line 14 (Apply (ChangeLine (Some 1) (codes "X") (edits.Substitute (codes "1") (codes "a b")))) ∷ on_line 15 (Apply (ExchangeLines (AtPlace Top) (block_lines (codes "<<-")))) ∷ [])) ∷  -- further-run-107
    (codes "assign  \"top\"  F  ::=  \"$(t -g)\"\r\n\"all\" subst F \"$(t -g)\" \"\"\r\nline-replace else \"\ttrue\"\r\nvalues-subst b \"\"\r\n\"or\" nth 002 add-after F \"$ b\" \"$(new a)\"\r\n\r\nor all add F \"$ b\"\r\n", Ok (on_line 1 (Apply (AddLine Top (NewAssign (codes "F") PosixSimple (codes "$(t -g)")))) ∷ on_line 2 (Apply (EachLine (ChangeEach (codes "F") (edits.Substitute (codes "$(t -g)") [])))) ∷ on_line 3 (Apply (ExchangeLines (OfRun None (block_lines (codes "else"))) (block_lines (codes "\ttrue")))) ∷ Chain (edit_on 4 (EachLine (SubstValues (codes "b") []))) (edit_on 5 (ChangeLine (Some 2) (codes "F") (edits.InsertWord After (codes "$ b") (codes "$(new a)")))) ((edit_on 7 (ChangeValue Every (codes "F") (edits.Add (codes "$ b")))) ∷ []) ∷ [])) ∷  -- further-run-108
    (codes "nth \"001\" add-after \"F\" -O2 -O3\r\n", Ok (on_line 1 (Apply (ChangeLine (Some 1) (codes "F") (edits.InsertWord After (codes "-O2") (codes "-O3")))) ∷ [])) ∷  -- further-run-109
    (codes "nth 2 recipe-insert c 001 >a\nor nth 4294967295 comment-out override\nor  nth  0  rule  before-rule  \"c\"  \"$$ $(p #)\"  ::  \"a $$\"\nor all set \"F\" \"a\\\\ b\"\nundo\n prepend \"F\" b", Ok (Chain (edit_on 1 (AddRecipe (Some 2) (codes "c") (At 1) (codes ">a"))) (edit_on 2 (SwitchLine CommentOut (Some 4294967295) (codes "override"))) ((edit_on 3 (AddLine (BeforeRule (Some 0) (codes "c")) (NewRule (codes "$$ $(p #)") Double (codes "a $$")))) ∷ (edit_on 4 (ChangeValue Every (codes "F") (edits.Set (codes "a\\ b")))) ∷ []) ∷ on_line 5 Undo ∷ on_line 6 (Apply (ChangeLine None (codes "F") (edits.Prepend (codes "b")))) ∷ [])) ∷  -- further-run-110
    (codes "nth 2 set-if X \"a b\" a\r\nnth 2 comment-out override\n# c\nor \"nth\" \"1\" add X $x\n\nor nth 2 comment-out F\n\"or\" \"nth\" \"2\" \"drop\" X b\nassign after-rule %.o X = \"-g $(A -g)\"\n\nor comment-out X\ntry \"all\" drop X b\n\"operator\"  X  :::=\ntry nth 2 add-before X -O2 b\ndepend-replace c <<E <<F\nend\nend\n", Ok (on_line 1 (Apply (ChangeValue (One (Some 2)) (codes "X") (edits.SetIf (codes "a b") (codes "a")))) ∷ Chain (edit_on 2 (SwitchLine CommentOut (Some 2) (codes "override"))) (edit_on 4 (ChangeValue (One (Some 1)) (codes "X") (edits.Add (codes "$x")))) ((edit_on 6 (SwitchLine CommentOut (Some 2) (codes "F"))) ∷ (edit_on 7 (ChangeValue (One (Some 2)) (codes "X") (edits.Remove (codes "b")))) ∷ []) ∷ Chain (edit_on 8 (AddLine (AfterRule None (codes "%.o")) (NewAssign (codes "X") Recursive (codes "-g $(A -g)")))) (edit_on 10 (SwitchLine CommentOut None (codes "X"))) [] ∷ tried_on 11 (ChangeValue Every (codes "X") (edits.Remove (codes "b"))) ∷ on_line 12 (Apply (ChangeLine None (codes "X") (edits.SetOperator Immediate))) ∷ tried_on 13 (ChangeLine (Some 2) (codes "X") (edits.InsertWord Before (codes "-O2") (codes "b"))) ∷ on_line 14 (Apply (ChangePrereqs None (codes "c") (ReplacePrereq (codes "<<E") (codes "<<F")))) ∷ on_line 15 End ∷ on_line 16 End ∷ [])) ∷  -- further-run-111
    (codes "all drop F \"$(t -g)\"\n\"or\" line-replace \"d&: # c\" <<end\n  b\nendef\nend\n\"insert\" \"after-line\" \"override = $x a\" <<9\nx \\\n\n9\n", Ok (Chain (edit_on 1 (ChangeValue Every (codes "F") (edits.Remove (codes "$(t -g)")))) (edit_on 2 (ExchangeLines (OfRun None (block_lines (codes "d&: # c"))) (block_lines (codes "  b\nendef")))) [] ∷ on_line 6 (Apply (ExchangeLines (AfterRun None (block_lines (codes "override = $x a"))) (block_lines (codes "x \\\n")))) ∷ [])) ∷  -- further-run-112
    (codes "try \"line-remove\" \"  b\"\nbegin\nline-replace <<9 <<9\nX = 1\n9\n# n\n# n\n9\n", Ok (tried_on 1 (ExchangeLines (OfRun None (block_lines (codes "  b"))) []) ∷ on_line 2 Begin ∷ on_line 3 (Apply (ExchangeLines (OfRun None (block_lines (codes "X = 1"))) (block_lines (codes "# n\n# n")))) ∷ [])) ∷  -- further-run-113
    (codes "insert \"after-line\" endef <<_\r\ndefine D\r\nx\r\nendef\r\n_\r\nall \"add\" F x=1\r\ntry \"nth\" 001 replace \"F\" -g -O2\r\nnth 2 insert after-line \"define D\" <<9\r\nc: d\r\n\tcp $< $@\r\n9\r\n all append F \"a$ b -g\"\r\n nth 002 set \"F\" \"\"\r\n all replace \"F\" a \"x$(a  b)\"\r\n", Ok (on_line 1 (Apply (ExchangeLines (AfterRun None (block_lines (codes "endef"))) (block_lines (codes "define D\nx\nendef")))) ∷ on_line 6 (Apply (ChangeValue Every (codes "F") (edits.Add (codes "x=1")))) ∷ tried_on 7 (ChangeLine (Some 1) (codes "F") (edits.ReplaceWord (codes "-g") (codes "-O2"))) ∷ on_line 8 (Apply (ExchangeLines (AfterRun (Some 2) (block_lines (codes "define D"))) (block_lines (codes "c: d\n\tcp $< $@")))) ∷ on_line 12 (Apply (ChangeValue Every (codes "F") (edits.Append (codes "a$ b -g")))) ∷ on_line 13 (Apply (ChangeValue (One (Some 2)) (codes "F") (edits.Set []))) ∷ on_line 14 (Apply (EachLine (ChangeEach (codes "F") (edits.ReplaceWord (codes "a") (codes "x$(a  b)"))))) ∷ [])) ∷  -- further-run-114
    (codes "try nth 1 rule-remove c\ntry add F a\n \"all\"  subst  F  \"a\"  \"\"\n", Ok (tried_on 1 (ExchangeLines (OfRuleRun (Some 1) (codes "c")) []) ∷ tried_on 2 (ChangeValue (One None) (codes "F") (edits.Add (codes "a"))) ∷ on_line 3 (Apply (EachLine (ChangeEach (codes "F") (edits.Substitute (codes "a") [])))) ∷ [])) ∷  -- further-run-115
    (codes "values-subst cc $(y)\n\"or\" values-subst \" \" $\\\ntry \"line-replace\" \"F += ;\" \"define D\"\n\"nth\"  2  \"subst\"  F  ;  \"\"\nbegin\ntry  \"append\"  \"Y\"  \"1\"\nbegin\nbegin\nrule-replace\t\"d\"\t<<_\nF += a\nifdef A\n_\nor \"nth\" 4294967295 rule \"before-rule\" d c :: \"a b\"\nor recipes-subst \\ \"$(y)\"\nredo\n", Ok (Chain (edit_on 1 (EachLine (SubstValues (codes "cc") (codes "$(y)")))) (edit_on 2 (EachLine (SubstValues (codes " ") (codes "$\\")))) [] ∷ tried_on 3 (ExchangeLines (OfRun None (block_lines (codes "F += ;"))) (block_lines (codes "define D"))) ∷ on_line 4 (Apply (ChangeLine (Some 2) (codes "F") (edits.Substitute (codes ";") []))) ∷ on_line 5 Begin ∷ tried_on 6 (ChangeValue (One None) (codes "Y") (edits.Append (codes "1"))) ∷ on_line 7 Begin ∷ on_line 8 Begin ∷ Chain (edit_on 9 (ExchangeLines (OfRuleRun None (codes "d")) (block_lines (codes "F += a\nifdef A")))) (edit_on 13 (AddLine (BeforeRule (Some 4294967295) (codes "d")) (NewRule (codes "c") Double (codes "a b")))) ((edit_on 14 (EachLine (SubstRecipes (codes "\\") (codes "$(y)")))) ∷ []) ∷ on_line 15 Redo ∷ [])) ∷  -- further-run-116
    (codes "\"add-after\" F | x.c\nreplace  \"F\"  -g  \"; $x\"\n \nor\tnth\t4294967295\trule-replace\t\"c\"\t<<end\nc:\n\ta \\\n\tb\nend\n# c\nor recipe-insert c 1 \"ifdef Q\"\n\"or\" rule before-var F d : \"a b\"\nadd-after F x.c -lz\nundo\ncomment-out F\ndepend-replace c <<E <<F\ntry\trecipe-replace\td\t\" a\"\t\"ifdef Q\"\n\"insert\" after-line <<9 <<X\n#F := | x.c\nc d: b $(w a)\\\n x.o\n9\nc: d\n\tcp $< $@\nX\n", Ok (on_line 1 (Apply (ChangeLine None (codes "F") (edits.InsertWord After (codes "|") (codes "x.c")))) ∷ Chain (edit_on 2 (ChangeLine None (codes "F") (edits.ReplaceWord (codes "-g") (codes "; $x")))) (edit_on 4 (ExchangeLines (OfRuleRun (Some 4294967295) (codes "c")) (block_lines (codes "c:\n\ta \\\n\tb")))) ((edit_on 10 (AddRecipe None (codes "c") (At 1) (codes "ifdef Q"))) ∷ (edit_on 11 (AddLine (BeforeVar None (codes "F")) (NewRule (codes "d") Single (codes "a b")))) ∷ []) ∷ on_line 12 (Apply (ChangeLine None (codes "F") (edits.InsertWord After (codes "x.c") (codes "-lz")))) ∷ on_line 13 Undo ∷ on_line 14 (Apply (SwitchLine CommentOut None (codes "F"))) ∷ on_line 15 (Apply (ChangePrereqs None (codes "c") (ReplacePrereq (codes "<<E") (codes "<<F")))) ∷ tried_on 16 (SetRecipe None (codes "d") (ByText (codes " a")) (codes "ifdef Q")) ∷ on_line 17 (Apply (ExchangeLines (AfterRun None (block_lines (codes "#F := | x.c\nc d: b $(w a)\\\n x.o"))) (block_lines (codes "c: d\n\tcp $< $@")))) ∷ [])) ∷  -- further-run-117
    (codes " \"unset\" X\n", Ok (on_line 1 (Apply (RemoveLines (OfAssign None (codes "X")))) ∷ [])) ∷  -- further-run-118
    (codes "operator .RECIPEPREFIX ?=\nall append X \"$ b $x\"\nassign top \"F\" ::= b\n# c\n\"or\" assign bottom define :::= $$\nredo", Ok (on_line 1 (Apply (ChangeLine None (codes ".RECIPEPREFIX") (edits.SetOperator Conditional))) ∷ on_line 2 (Apply (ChangeValue Every (codes "X") (edits.Append (codes "$ b $x")))) ∷ Chain (edit_on 3 (AddLine Top (NewAssign (codes "F") PosixSimple (codes "b")))) (edit_on 5 (AddLine Bottom (NewAssign (codes "define") Immediate (codes "$$")))) [] ∷ on_line 6 Redo ∷ [])) ∷  -- further-run-119
    (codes "try recipes-subst cc \"\"\n", Ok (tried_on 1 (EachLine (SubstRecipes (codes "cc") [])) ∷ [])) ∷  -- further-run-120
    (codes "redo\ncomment-out \"F\"\nredo", Ok (on_line 1 Redo ∷ on_line 2 (Apply (SwitchLine CommentOut None (codes "F"))) ∷ on_line 3 Redo ∷ [])) ∷  -- further-run-121
    (codes "rule\tbottom\td\t::\t\"\"\ntry recipe-subst c a \"#\"\ntry \"nth\" 1 recipe-replace c # a\nrule\ttop\tc\t:\t\"\"\ntry comment-out F\n\"recipe-subst\" c a \"\"", Ok (on_line 1 (Apply (AddLine Bottom (NewRule (codes "d") Double []))) ∷ tried_on 2 (EachLine (SubstRecipe None (codes "c") (codes "a") (codes "#"))) ∷ tried_on 3 (SetRecipe (Some 1) (codes "c") (ByText (codes "#")) (codes "a")) ∷ on_line 4 (Apply (AddLine Top (NewRule (codes "c") Single []))) ∷ tried_on 5 (SwitchLine CommentOut None (codes "F")) ∷ on_line 6 (Apply (EachLine (SubstRecipe None (codes "c") (codes "a") []))) ∷ [])) ∷  -- further-run-122
    (codes "insert \"after-rule\" c <<_\nX = 1\n\n_\nrule-remove \"c\"\nadd \"X\" a:b\nadd-after X a:b b\nadd X x=1\n\"nth\" \"2\" line-replace \"\ta\" <<O1\n\n\ta\nif+def A\nO1\nnth 1 line-remove \"\"\n", Ok (on_line 1 (Apply (ExchangeLines (AtPlace (AfterRule None (codes "c"))) (block_lines (codes "X = 1\n")))) ∷ on_line 5 (Apply (ExchangeLines (OfRuleRun None (codes "c")) [])) ∷ on_line 6 (Apply (ChangeValue (One None) (codes "X") (edits.Add (codes "a:b")))) ∷ on_line 7 (Apply (ChangeLine None (codes "X") (edits.InsertWord After (codes "a:b") (codes "b")))) ∷ on_line 8 (Apply (ChangeValue (One None) (codes "X") (edits.Add (codes "x=1")))) ∷ on_line 9 (Apply (ExchangeLines (OfRun (Some 2) (block_lines (codes "\ta"))) (block_lines (codes "\n\ta\nif+def A")))) ∷ on_line 14 (Apply (ExchangeLines (OfRun (Some 1) (block_lines [])) [])) ∷ [])) ∷  -- further-run-123
    (codes "add PEPREFIX x=1\r\n\"try\"  nth  \"0\"  add  \"PEPREFIX\"  b\r\nsubst \"PEPREFIX\" \"x\" $(\r\nline-replace <<end <<X\r\nPEPREFIX = > $(=1\r\n#X: = 1\r\nend\r\nPEPREFIX = > $(=1\r\nX\r\n\"try\" nth 1 append F \"$ b $(w a)\"\r\nundo\r\nprepend PEPREFIX \"a b\"", Ok (on_line 1 (Apply (ChangeValue (One None) (codes "PEPREFIX") (edits.Add (codes "x=1")))) ∷ tried_on 2 (ChangeValue (One (Some 0)) (codes "PEPREFIX") (edits.Add (codes "b"))) ∷ on_line 3 (Apply (ChangeLine None (codes "PEPREFIX") (edits.Substitute (codes "x") (codes "$(")))) ∷ on_line 4 (Apply (ExchangeLines (OfRun None (block_lines (codes "PEPREFIX = > $(=1\n#X: = 1"))) (block_lines (codes "PEPREFIX = > $(=1")))) ∷ tried_on 10 (ChangeValue (One (Some 1)) (codes "F") (edits.Append (codes "$ b $(w a)"))) ∷ on_line 11 Undo ∷ on_line 12 (Apply (ChangeLine None (codes "PEPREFIX") (edits.Prepend (codes "a b")))) ∷ [])) ∷  -- further-run-124
    (codes "\"try\" nth 4294967295 rule-replace a <<_\n#X = 1\n\n_\nnth 001 subst F a $$\nnth \"002\" line-remove \"a: $(w a)\"\n\"or\" nth 1 drop F \"b\"\n# c\nor replace \"F\" | -g\nundo\ncancel\ntry rule after-last-var F d :: a\nundo\n", Ok (tried_on 1 (ExchangeLines (OfRuleRun (Some 4294967295) (codes "a")) (block_lines (codes "#X = 1\n"))) ∷ on_line 5 (Apply (ChangeLine (Some 1) (codes "F") (edits.Substitute (codes "a") (codes "$$")))) ∷ Chain (edit_on 6 (ExchangeLines (OfRun (Some 2) (block_lines (codes "a: $(w a)"))) [])) (edit_on 7 (ChangeValue (One (Some 1)) (codes "F") (edits.Remove (codes "b")))) ((edit_on 9 (ChangeLine None (codes "F") (edits.ReplaceWord (codes "|") (codes "-g")))) ∷ []) ∷ on_line 10 Undo ∷ on_line 11 Cancel ∷ tried_on 12 (AddLine (AfterLastVar (codes "F")) (NewRule (codes "d") Double (codes "a"))) ∷ on_line 13 Undo ∷ [])) ∷  -- further-run-125
    (codes "nth \"1\" \"recipe-insert\" \"c\" \"1\" a\\\n rule-replace  d  <<end\nd:\nifdef A\n\tx\nendif\nend\nassign top t != \"\"\nredo\nrecipe-subst \"d\" \"cc\" a\r\n\"insert\" \"top\" \"# <<E\"\n", Ok (on_line 1 (Apply (AddRecipe (Some 1) (codes "c") (At 1) (codes "a\\"))) ∷ on_line 2 (Apply (ExchangeLines (OfRuleRun None (codes "d")) (block_lines (codes "d:\nifdef A\n\tx\nendif")))) ∷ on_line 8 (Apply (AddLine Top (NewAssign (codes "t") Shell []))) ∷ on_line 9 Redo ∷ on_line 10 (Apply (EachLine (SubstRecipe None (codes "d") (codes "cc") (codes "a")))) ∷ on_line 11 (Apply (ExchangeLines (AtPlace Top) (block_lines (codes "# <<E")))) ∷ [])) ∷  -- further-run-126
    (codes "recipe-remove \"c\" \"\ttrue\"\nor \"nth\" \"1\" line-replace \"# c\" <<E\nifdef B\nifdef C\nendif\nendif\nE\ntry insert top \"ifdef B\"\n", Ok (Chain (edit_on 1 (RemoveLines (OfRecipe None (codes "c") (ByText (codes "\ttrue"))))) (edit_on 2 (ExchangeLines (OfRun (Some 1) (block_lines (codes "# c"))) (block_lines (codes "ifdef B\nifdef C\nendif\nendif")))) [] ∷ tried_on 8 (ExchangeLines (AtPlace Top) (block_lines (codes "ifdef B"))) ∷ [])) ∷  -- further-run-127
    (codes "insert before-var F \"\tababa aaa\"\r\n \r\nor  \"recipe-insert\"  c  001  t\r\nor nth \"1\" recipe-remove d \"\"\r\n \r\nor \"assign\" bottom \"Y\" += .PHONY\r\ndrop  \"Y\"  \".PHONY\"\r\nall \"set-if\" Y \"\" \"$(a b)\"\r\nuncomment F\r\n", Ok (Chain (edit_on 1 (ExchangeLines (AtPlace (BeforeVar None (codes "F"))) (block_lines (codes "\tababa aaa")))) (edit_on 3 (AddRecipe None (codes "c") (At 1) (codes "t"))) ((edit_on 4 (RemoveLines (OfRecipe (Some 1) (codes "d") (ByText [])))) ∷ (edit_on 6 (AddLine Bottom (NewAssign (codes "Y") Append (codes ".PHONY")))) ∷ []) ∷ on_line 7 (Apply (ChangeValue (One None) (codes "Y") (edits.Remove (codes ".PHONY")))) ∷ on_line 8 (Apply (ChangeValue Every (codes "Y") (edits.SetIf [] (codes "$(a b)")))) ∷ on_line 9 (Apply (SwitchLine Uncomment None (codes "F"))) ∷ [])) ∷  -- further-run-128
    (codes "nth \"2\" \"recipe-replace\" \"d\" \"say \\\"q\\\"\" \" a\"\nor append F \"\"\ntry line-replace <<end <<EOF\n>a\n>true\n>rm -rf x\nend\n>a\n>true\n>rm -rf x\nEOF\ndrop F \"x$(a  b)\"\nundo\nall  \"set-if\"  override  $\\x  \"\"\ntry replace F a\r \"a# $\\\\x\"\n nth  2  subst  X  \"\"  a\\\n\"or\" drop \\#x \"a\\\\ b\"\nreplace F $\\x b", Ok (Chain (edit_on 1 (SetRecipe (Some 2) (codes "d") (ByText (codes "say \"q\"")) (codes " a"))) (edit_on 2 (ChangeValue (One None) (codes "F") (edits.Append []))) [] ∷ tried_on 3 (ExchangeLines (OfRun None (block_lines (codes ">a\n>true\n>rm -rf x"))) (block_lines (codes ">a\n>true\n>rm -rf x"))) ∷ on_line 12 (Apply (ChangeValue (One None) (codes "F") (edits.Remove (codes "x$(a  b)")))) ∷ on_line 13 Undo ∷ on_line 14 (Apply (ChangeValue Every (codes "override") (edits.SetIf (codes "$\\x") []))) ∷ tried_on 15 (ChangeLine None (codes "F") (edits.ReplaceWord (codes "a\r") (codes "a# $\\x"))) ∷ Chain (edit_on 16 (ChangeLine (Some 2) (codes "X") (edits.Substitute [] (codes "a\\")))) (edit_on 17 (ChangeValue (One None) (codes "\\#x") (edits.Remove (codes "a\\ b")))) [] ∷ on_line 18 (Apply (ChangeLine None (codes "F") (edits.ReplaceWord (codes "$\\x") (codes "b")))) ∷ [])) ∷  -- further-run-129
    (codes "nth 2 \"line-remove\" <<EOF\n\t# n\n\t>a\nEOF\nor assign after-last-var F \"F\" = \"\"\n\"or\" line-remove <<_\n\t# n\n\t>a\n_\nrule-replace c <<9\ndefine W\nc: # c\n\t a\nendef\n9\ninsert before-line endef <<9\n#X = 1\nvpath %.c a\n\tababa aaa\n9\nadd override \"\\\\\\\\a\"\n or  insert  before-var  a.b  <<9\nX = ababa\ndefine Q\n9\nor rule bottom d \":\" \"a\"\nrecipe d \"\tb\"\n\"nth\" 1 insert after-rule d <<X\nF = a \\\n  b\nX\n rule bottom c :: \"a b\"\n\"drop\" F b\nappend \"F\" \"| a\\\\ b\"\n", Ok (Chain (edit_on 1 (ExchangeLines (OfRun (Some 2) (block_lines (codes "\t# n\n\t>a"))) [])) (edit_on 5 (AddLine (AfterLastVar (codes "F")) (NewAssign (codes "F") Recursive []))) ((edit_on 6 (ExchangeLines (OfRun None (block_lines (codes "\t# n\n\t>a"))) [])) ∷ []) ∷ on_line 10 (Apply (ExchangeLines (OfRuleRun None (codes "c")) (block_lines (codes "define W\nc: # c\n\t a\nendef")))) ∷ on_line 16 (Apply (ExchangeLines (BeforeRun None (block_lines (codes "endef"))) (block_lines (codes "#X = 1\nvpath %.c a\n\tababa aaa")))) ∷ Chain (edit_on 21 (ChangeValue (One None) (codes "override") (edits.Add (codes "\\\\a")))) (edit_on 22 (ExchangeLines (AtPlace (BeforeVar None (codes "a.b"))) (block_lines (codes "X = ababa\ndefine Q")))) ((edit_on 26 (AddLine Bottom (NewRule (codes "d") Single (codes "a")))) ∷ []) ∷ on_line 27 (Apply (AddRecipe None (codes "d") Last (codes "\tb"))) ∷ on_line 28 (Apply (ExchangeLines (AtPlace (AfterRule (Some 1) (codes "d"))) (block_lines (codes "F = a \\\n  b")))) ∷ on_line 32 (Apply (AddLine Bottom (NewRule (codes "c") Double (codes "a b")))) ∷ on_line 33 (Apply (ChangeValue (One None) (codes "F") (edits.Remove (codes "b")))) ∷ on_line 34 (Apply (ChangeValue (One None) (codes "F") (edits.Append (codes "| a\\ b")))) ∷ [])) ∷  -- further-run-130
    (codes "nth 1 \"drop\" F ${c}\ntry all add F b\nall  \"drop\"  F  ${c}\ntry rule-replace c <<E\nc:\n\tx\nE\n nth 2 add-after \"F\" a |\nundo\nset-if\tF\tb\t\"b a\\\\ b\"\nnth \"1\" set F \"\"\n", Ok (on_line 1 (Apply (ChangeValue (One (Some 1)) (codes "F") (edits.Remove (codes "${c}")))) ∷ tried_on 2 (ChangeValue Every (codes "F") (edits.Add (codes "b"))) ∷ on_line 3 (Apply (ChangeValue Every (codes "F") (edits.Remove (codes "${c}")))) ∷ tried_on 4 (ExchangeLines (OfRuleRun None (codes "c")) (block_lines (codes "c:\n\tx"))) ∷ on_line 8 (Apply (ChangeLine (Some 2) (codes "F") (edits.InsertWord After (codes "a") (codes "|")))) ∷ on_line 9 Undo ∷ on_line 10 (Apply (ChangeValue (One None) (codes "F") (edits.SetIf (codes "b") (codes "b a\\ b")))) ∷ on_line 11 (Apply (ChangeValue (One (Some 1)) (codes "F") (edits.Set []))) ∷ [])) ∷  -- further-run-131
    (codes " nth \"0\" subst F b \"\"\n\nor recipes-subst a \"\"\nor subst X - \"\"\nadd  X  a\nall \"replace\" X -g -g\n\"assign\" \"top\" F :::= \"$(t -g)\"\ninsert top \"\"\n \"nth\" 1 comment-out F\nline-remove <<9\nX = -g a \nF += -g  b# a \\\\\n9\ninsert before-line \"\" <<E\na: b\nX = 1\ninclude a.mk\nE\nall  replace  X  \"1\"  a\nline-remove  \"\"\n", Ok (Chain (edit_on 1 (ChangeLine (Some 0) (codes "F") (edits.Substitute (codes "b") []))) (edit_on 3 (EachLine (SubstRecipes (codes "a") []))) ((edit_on 4 (ChangeLine None (codes "X") (edits.Substitute (codes "-") []))) ∷ []) ∷ on_line 5 (Apply (ChangeValue (One None) (codes "X") (edits.Add (codes "a")))) ∷ on_line 6 (Apply (EachLine (ChangeEach (codes "X") (edits.ReplaceWord (codes "-g") (codes "-g"))))) ∷ on_line 7 (Apply (AddLine Top (NewAssign (codes "F") Immediate (codes "$(t -g)")))) ∷ on_line 8 (Apply (ExchangeLines (AtPlace Top) (block_lines []))) ∷ on_line 9 (Apply (SwitchLine CommentOut (Some 1) (codes "F"))) ∷ on_line 10 (Apply (ExchangeLines (OfRun None (block_lines (codes "X = -g a \nF += -g  b# a \\\\"))) [])) ∷ on_line 14 (Apply (ExchangeLines (BeforeRun None (block_lines [])) (block_lines (codes "a: b\nX = 1\ninclude a.mk")))) ∷ on_line 19 (Apply (EachLine (ChangeEach (codes "X") (edits.ReplaceWord (codes "1") (codes "a"))))) ∷ on_line 20 (Apply (ExchangeLines (OfRun None (block_lines [])) [])) ∷ [])) ∷  -- further-run-132
    (codes "operator\tF\t\"!=\"", Ok (on_line 1 (Apply (ChangeLine None (codes "F") (edits.SetOperator Shell))) ∷ [])) ∷  -- further-run-133
    (codes "try nth 4294967295 operator \"X\" !=\nrecipe-replace c \"ifdef Q\" b\n \n or assign \"after-rule\" c a.b \"::=\" \"x=1 =\"\n\"nth\" \"2\" add-after X -g x.c\n \n or\t\"prepend\"\tX\t\"$(t -g)\"\n", Ok (tried_on 1 (ChangeLine (Some 4294967295) (codes "X") (edits.SetOperator Shell)) ∷ Chain (edit_on 2 (SetRecipe None (codes "c") (ByText (codes "ifdef Q")) (codes "b"))) (edit_on 4 (AddLine (AfterRule None (codes "c")) (NewAssign (codes "a.b") PosixSimple (codes "x=1 =")))) [] ∷ Chain (edit_on 5 (ChangeLine (Some 2) (codes "X") (edits.InsertWord After (codes "-g") (codes "x.c")))) (edit_on 7 (ChangeLine None (codes "X") (edits.Prepend (codes "$(t -g)")))) [] ∷ [])) ∷  -- further-run-134
    (codes "recipe-insert \"i\" 2 \"a # b\"\n drop F a:b\nor nth 2 recipe-remove c \"rm -rf x\"\n# c\nor recipe-remove i \"cc -s y; cc -s z\"\n insert top \"a\\\\b: c\"\nrule-replace \"i\" <<9\n\na\r\n9\n nth 002 recipe-replace c \"\" \" a\"\n\nor all drop F -O2\n\"or\"  \"insert\"  bottom  <<end\nendif\nifdef B\nend\nor line-remove <<_\n \n_\nredo\n\"line-remove\" \"endef\"\nadd override -g\ninsert after-rule c <<O1\nx \\\n\nO1\nor insert after-last-var F <<_\nc: d\n\tcp $< $@\n_", Ok (on_line 1 (Apply (AddRecipe None (codes "i") (At 2) (codes "a # b"))) ∷ Chain (edit_on 2 (ChangeValue (One None) (codes "F") (edits.Remove (codes "a:b")))) (edit_on 3 (RemoveLines (OfRecipe (Some 2) (codes "c") (ByText (codes "rm -rf x"))))) ((edit_on 5 (RemoveLines (OfRecipe None (codes "i") (ByText (codes "cc -s y; cc -s z"))))) ∷ []) ∷ on_line 6 (Apply (ExchangeLines (AtPlace Top) (block_lines (codes "a\\b: c")))) ∷ on_line 7 (Apply (ExchangeLines (OfRuleRun None (codes "i")) (block_lines (codes "\na")))) ∷ Chain (edit_on 11 (SetRecipe (Some 2) (codes "c") (ByText []) (codes " a"))) (edit_on 13 (ChangeValue Every (codes "F") (edits.Remove (codes "-O2")))) ((edit_on 14 (ExchangeLines (AtPlace Bottom) (block_lines (codes "endif\nifdef B")))) ∷ (edit_on 18 (ExchangeLines (OfRun None (block_lines (codes " "))) [])) ∷ []) ∷ on_line 21 Redo ∷ on_line 22 (Apply (ExchangeLines (OfRun None (block_lines (codes "endef"))) [])) ∷ on_line 23 (Apply (ChangeValue (One None) (codes "override") (edits.Add (codes "-g")))) ∷ Chain (edit_on 24 (ExchangeLines (AtPlace (AfterRule None (codes "c"))) (block_lines (codes "x \\\n")))) (edit_on 28 (ExchangeLines (AtPlace (AfterLastVar (codes "F"))) (block_lines (codes "c: d\n\tcp $< $@")))) [] ∷ [])) ∷  -- further-run-135
    (codes "\r\n", Ok []) ∷  -- further-run-136
    (codes "nth \"2\" insert after-line c:: \"#X = 1\"\nundo\nnth 001 \"append\" F \"$(s (b) a) a\"\n", Ok (on_line 1 (Apply (ExchangeLines (AfterRun (Some 2) (block_lines (codes "c::"))) (block_lines (codes "#X = 1")))) ∷ on_line 2 Undo ∷ on_line 3 (Apply (ChangeValue (One (Some 1)) (codes "F") (edits.Append (codes "$(s (b) a) a")))) ∷ [])) ∷  -- further-run-137
    (codes "values-subst \"1\" \"\"\nundo\nadd-after X a 1\nor \"nth\" 2 depend-replace c %.o %.o\n \n\"or\" recipe \"c\" x", Ok (on_line 1 (Apply (EachLine (SubstValues (codes "1") []))) ∷ on_line 2 Undo ∷ Chain (edit_on 3 (ChangeLine None (codes "X") (edits.InsertWord After (codes "a") (codes "1")))) (edit_on 4 (ChangePrereqs (Some 2) (codes "c") (ReplacePrereq (codes "%.o") (codes "%.o")))) ((edit_on 6 (AddRecipe None (codes "c") Last (codes "x"))) ∷ []) ∷ [])) ∷  -- further-run-138
    (codes "try all set-if F a b\nnth  2  \"insert\"  \"before-line\"  \"F=-g\"  <<O1\n\n\nO1\nundo\nline-remove <<EOF\nF!=$(t \\\n -g)\nEOF\nassign after-last-var a.b F ?= \"; a\"\nnth  1  replace  F  a  \"\\\\\\\\a -g\"\nall unset F\nprepend F <<E\n", Err 13) ∷  -- further-run-139
    (codes "nth 3 recipe-remove c b\ntry\tinsert\tbefore-line\tzz\t<<9\nendef\ndefine D\n9\nnth 001 add F \"a\"\nassign after-last-var X X \"!=\" \"\"\ntry rule-replace c <<E\nc:\n\tx\nE\n nth  1  subst  F  \"a\\\\$ b\"  )\nundo\nline-replace <<EOF <<O1\nc: ;\nEOF\nifneq (x,)\nc: ;\nendif\nO1\nor  all  set-if  \"F\"  \"${c} a\\\\ b\"  \"-O3 -g\"\nnth 0 subst X \"1\" \"\t\"\nnth\t3\tundepend\tc\tc\nor add X 1\nor recipe-remove c \"\ttrue\"\n\nor  nth  001  \"drop\"  F  a\n", Ok (on_line 1 (Apply (RemoveLines (OfRecipe (Some 3) (codes "c") (ByText (codes "b"))))) ∷ tried_on 2 (ExchangeLines (BeforeRun None (block_lines (codes "zz"))) (block_lines (codes "endef\ndefine D"))) ∷ on_line 6 (Apply (ChangeValue (One (Some 1)) (codes "F") (edits.Add (codes "a")))) ∷ on_line 7 (Apply (AddLine (AfterLastVar (codes "X")) (NewAssign (codes "X") Shell []))) ∷ tried_on 8 (ExchangeLines (OfRuleRun None (codes "c")) (block_lines (codes "c:\n\tx"))) ∷ on_line 12 (Apply (ChangeLine (Some 1) (codes "F") (edits.Substitute (codes "a\\$ b") (codes ")")))) ∷ on_line 13 Undo ∷ Chain (edit_on 14 (ExchangeLines (OfRun None (block_lines (codes "c: ;"))) (block_lines (codes "ifneq (x,)\nc: ;\nendif")))) (edit_on 21 (ChangeValue Every (codes "F") (edits.SetIf (codes "${c} a\\ b") (codes "-O3 -g")))) [] ∷ on_line 22 (Apply (ChangeLine (Some 0) (codes "X") (edits.Substitute (codes "1") (codes "\t")))) ∷ Chain (edit_on 23 (ChangePrereqs (Some 3) (codes "c") (RemovePrereq (codes "c")))) (edit_on 24 (ChangeValue (One None) (codes "X") (edits.Add (codes "1")))) ((edit_on 25 (RemoveLines (OfRecipe None (codes "c") (ByText (codes "\ttrue"))))) ∷ (edit_on 27 (ChangeValue (One (Some 1)) (codes "F") (edits.Remove (codes "a")))) ∷ []) ∷ [])) ∷  -- further-run-140
    (codes "line-replace \"# n\" \"vpath %.c a\"\nundo\n", Ok (on_line 1 (Apply (ExchangeLines (OfRun None (block_lines (codes "# n"))) (block_lines (codes "vpath %.c a")))) ∷ on_line 2 Undo ∷ [])) ∷  -- further-run-141
    (codes "try insert before-line \"\tx \\\\ y\" <<9\ninclude a.mk\n\t  cc $$f; \\\n9\n recipes-subst\t\"x\"\tyy\nvalues-subst a \"\"\n\"try\" unset a.b\nreplace override \"|\" \"a:b $x\"\nappend  \"A\"  $#\nnth 002 depend-replace c \"c\" a\nnth 2 \"rule-replace\" c <<O1\nifdef A\nc&: ; true\n\n\tyy \\ y\nendif\nO1\n or insert after-var override <<O1\ndefine D\nx\nendef\nO1\nprepend F <<E\n", Ok (tried_on 1 (ExchangeLines (BeforeRun None (block_lines (codes "\tx \\ y"))) (block_lines (codes "include a.mk\n\t  cc $$f; \\"))) ∷ on_line 5 (Apply (EachLine (SubstRecipes (codes "x") (codes "yy")))) ∷ on_line 6 (Apply (EachLine (SubstValues (codes "a") []))) ∷ tried_on 7 (RemoveLines (OfAssign None (codes "a.b"))) ∷ on_line 8 (Apply (ChangeLine None (codes "override") (edits.ReplaceWord (codes "|") (codes "a:b $x")))) ∷ on_line 9 (Apply (ChangeValue (One None) (codes "A") (edits.Append (codes "$#")))) ∷ on_line 10 (Apply (ChangePrereqs (Some 2) (codes "c") (ReplacePrereq (codes "c") (codes "a")))) ∷ Chain (edit_on 11 (ExchangeLines (OfRuleRun (Some 2) (codes "c")) (block_lines (codes "ifdef A\nc&: ; true\n\n\tyy \\ y\nendif")))) (edit_on 18 (ExchangeLines (AtPlace (AfterVar None (codes "override"))) (block_lines (codes "define D\nx\nendef")))) [] ∷ on_line 23 (Apply (ChangeLine None (codes "F") (edits.Prepend (codes "<<E")))) ∷ [])) ∷  -- further-run-142
    (codes "all prepend \"F\" \"a:b\"\nrule \"after-last-var\" \"F\" d : a\n\"assign\" bottom a.b := b\ntry subst a.b \"b\" x=1", Ok (on_line 1 (Apply (EachLine (ChangeEach (codes "F") (edits.Prepend (codes "a:b"))))) ∷ on_line 2 (Apply (AddLine (AfterLastVar (codes "F")) (NewRule (codes "d") Single (codes "a")))) ∷ on_line 3 (Apply (AddLine Bottom (NewAssign (codes "a.b") Simple (codes "b")))) ∷ tried_on 4 (ChangeLine None (codes "a.b") (edits.Substitute (codes "b") (codes "x=1"))) ∷ [])) ∷  -- further-run-143
    (codes "\n", Ok []) ∷  -- further-run-144
    (codes "nth 1 add F b", Ok (on_line 1 (Apply (ChangeValue (One (Some 1)) (codes "F") (edits.Add (codes "b")))) ∷ [])) ∷  -- further-run-145
    (codes "nth\t4294967295\trule-replace\tc\t<<end\nc:\n\ttrue\nend\nall  set  F  $$", Ok (on_line 1 (Apply (ExchangeLines (OfRuleRun (Some 4294967295) (codes "c")) (block_lines (codes "c:\n\ttrue")))) ∷ on_line 5 (Apply (ChangeValue Every (codes "F") (edits.Set (codes "$$")))) ∷ [])) ∷  -- further-run-146
    (codes "\"nth\"  \"4294967295\"  insert  \"after-line\"  <<end  <<_\r\nX=|\r\n:#)a!\\\\\r\nend\r\nifdef B\r\nifdef C\r\nendif\r\nendif\r\n_\r\nor \"insert\" \"after-rule\" c <<O1\r\nifdef A\r\n\tx\r\nelse\r\n\ty\r\nendif\r\nO1\r\nor \"comment-out\" Q\r\n", Ok (Chain (edit_on 1 (ExchangeLines (AfterRun (Some 4294967295) (block_lines (codes "X=|\n:#)a!\\\\"))) (block_lines (codes "ifdef B\nifdef C\nendif\nendif")))) (edit_on 10 (ExchangeLines (AtPlace (AfterRule None (codes "c"))) (block_lines (codes "ifdef A\n\tx\nelse\n\ty\nendif")))) ((edit_on 17 (SwitchLine CommentOut None (codes "Q"))) ∷ []) ∷ [])) ∷  -- further-run-147
    (codes "\"uncomment\" \"X\"\r\nassign  \"after-rule\"  c  X  ?=  \"$(a b)\"\r\ninsert  top  <<end\r\nelse\r\nend\r\ntry \"nth\" 0 recipe-replace c \" a\" \"rm -f x\"\r\nall  replace  X  $(x)  \"$(w a) =\"\r\nline-replace \"\trm -f x\" <<X\r\ndefine W\r\n\trm -f x\r\nendef\r\nX\r\ntry nth 2 \"add\" X =\r\n\"nth\"\t1\treplace\tX\t\"$(a b)\"\t-O2\r\nnth 4294967295 set-if X -O2 \"a  b\"\r\nor all subst X \"cc\" $\\\r\nor\trule-remove\t\"c\"\r\nnth 4294967295 \"recipe-insert\" c \"1\" t\r\nor  nth  001  \"insert\"  before-var  X  <<end\r\nc:: a | b\r\nX ?= -O2\r\nendif\r\nend\r\nor nth \"2\" append X \"\"\r\n# c\r\nor all \"subst\" \"X\" \"$(w a)\" $\\\r\n", Ok (on_line 1 (Apply (SwitchLine Uncomment None (codes "X"))) ∷ on_line 2 (Apply (AddLine (AfterRule None (codes "c")) (NewAssign (codes "X") Conditional (codes "$(a b)")))) ∷ on_line 3 (Apply (ExchangeLines (AtPlace Top) (block_lines (codes "else")))) ∷ tried_on 6 (SetRecipe (Some 0) (codes "c") (ByText (codes " a")) (codes "rm -f x")) ∷ on_line 7 (Apply (EachLine (ChangeEach (codes "X") (edits.ReplaceWord (codes "$(x)") (codes "$(w a) ="))))) ∷ on_line 8 (Apply (ExchangeLines (OfRun None (block_lines (codes "\trm -f x"))) (block_lines (codes "define W\n\trm -f x\nendef")))) ∷ tried_on 13 (ChangeValue (One (Some 2)) (codes "X") (edits.Add (codes "="))) ∷ on_line 14 (Apply (ChangeLine (Some 1) (codes "X") (edits.ReplaceWord (codes "$(a b)") (codes "-O2")))) ∷ Chain (edit_on 15 (ChangeValue (One (Some 4294967295)) (codes "X") (edits.SetIf (codes "-O2") (codes "a  b")))) (edit_on 16 (EachLine (ChangeEach (codes "X") (edits.Substitute (codes "cc") (codes "$\\"))))) ((edit_on 17 (ExchangeLines (OfRuleRun None (codes "c")) [])) ∷ []) ∷ Chain (edit_on 18 (AddRecipe (Some 4294967295) (codes "c") (At 1) (codes "t"))) (edit_on 19 (ExchangeLines (AtPlace (BeforeVar (Some 1) (codes "X"))) (block_lines (codes "c:: a | b\nX ?= -O2\nendif")))) ((edit_on 24 (ChangeValue (One (Some 2)) (codes "X") (edits.Append []))) ∷ (edit_on 26 (EachLine (ChangeEach (codes "X") (edits.Substitute (codes "$(w a)") (codes "$\\"))))) ∷ []) ∷ [])) ∷  -- further-run-148
    (codes "all operator F :::=\n replace  \"F\"  \"$(a\tb)\"  \"-O2 $(t -g)\"\nadd-after\tF\t\"$(t -g)\"\t-lz\ndrop F \"$(t -g)\"\nundo\ninsert top <<O1\nc: d\n\tcp $< $@\nO1\n", Ok (on_line 1 (Apply (EachLine (ChangeEach (codes "F") (edits.SetOperator Immediate)))) ∷ on_line 2 (Apply (ChangeLine None (codes "F") (edits.ReplaceWord (codes "$(a\tb)") (codes "-O2 $(t -g)")))) ∷ on_line 3 (Apply (ChangeLine None (codes "F") (edits.InsertWord After (codes "$(t -g)") (codes "-lz")))) ∷ on_line 4 (Apply (ChangeValue (One None) (codes "F") (edits.Remove (codes "$(t -g)")))) ∷ on_line 5 Undo ∷ on_line 6 (Apply (ExchangeLines (AtPlace Top) (block_lines (codes "c: d\n\tcp $< $@")))) ∷ [])) ∷  -- further-run-149
    (codes "subst  X  1  \"yy\"\ninsert\tafter-last-var\tF\t<<9\nx \\\n\n9\n", Ok (on_line 1 (Apply (ChangeLine None (codes "X") (edits.Substitute (codes "1") (codes "yy")))) ∷ on_line 2 (Apply (ExchangeLines (AtPlace (AfterLastVar (codes "F"))) (block_lines (codes "x \\\n")))) ∷ [])) ∷  -- further-run-150
    (codes "try \"nth\" 4294967295 drop F b\nundo\nrecipe-subst d \0 \"\"\nundo\ntry nth 4294967295 replace F -g \"$\\\\x $(A -g)\"\nnth 1 line-remove <<end\n\tsay \"q\"\nend\ninsert before-line <<9 <<EOF\nd: ;\n\ta\n\tsay \"q\"\n9\nF = aaa aaaa # aa\n\nEOF\n", Ok (tried_on 1 (ChangeValue (One (Some 4294967295)) (codes "F") (edits.Remove (codes "b"))) ∷ on_line 2 Undo ∷ on_line 3 (Apply (EachLine (SubstRecipe None (codes "d") (codes "\0") []))) ∷ on_line 4 Undo ∷ tried_on 5 (ChangeLine (Some 4294967295) (codes "F") (edits.ReplaceWord (codes "-g") (codes "$\\x $(A -g)"))) ∷ on_line 6 (Apply (ExchangeLines (OfRun (Some 1) (block_lines (codes "\tsay \"q\""))) [])) ∷ on_line 9 (Apply (ExchangeLines (BeforeRun None (block_lines (codes "d: ;\n\ta\n\tsay \"q\""))) (block_lines (codes "F = aaa aaaa # aa\n")))) ∷ [])) ∷  -- further-run-151
    (codes "\"insert\" after-line <<_ <<9\r\n\tdone\r\n#\tX := 1\r\n_\r\n\tdone\r\na\r\r\n9", Ok (on_line 1 (Apply (ExchangeLines (AfterRun None (block_lines (codes "\tdone\n#\tX := 1"))) (block_lines (codes "\tdone\na\r")))) ∷ [])) ∷  -- further-run-152
    (codes "all subst \"a.b\" zz x\n \nor subst \"X\" ; aa\n\"or\" subst X \" ${\" \"yy\"\nnth 4294967295 line-remove <<9\nX = aa ${c}\n9\n\"or\" \"all\" set-if X \"a\\\\ b\" $\\x\nor \"line-remove\" \"X = aa ${c}\"\n\"replace\" \"X\" ${c} \"$(A -g)\"\nadd X \"$ b\"\nrule top a : b\nline-remove \"# t = 1\"\n", Ok (Chain (edit_on 1 (EachLine (ChangeEach (codes "a.b") (edits.Substitute (codes "zz") (codes "x"))))) (edit_on 3 (ChangeLine None (codes "X") (edits.Substitute (codes ";") (codes "aa")))) ((edit_on 4 (ChangeLine None (codes "X") (edits.Substitute (codes " ${") (codes "yy")))) ∷ []) ∷ Chain (edit_on 5 (ExchangeLines (OfRun (Some 4294967295) (block_lines (codes "X = aa ${c}"))) [])) (edit_on 8 (ChangeValue Every (codes "X") (edits.SetIf (codes "a\\ b") (codes "$\\x")))) ((edit_on 9 (ExchangeLines (OfRun None (block_lines (codes "X = aa ${c}"))) [])) ∷ []) ∷ on_line 10 (Apply (ChangeLine None (codes "X") (edits.ReplaceWord (codes "${c}") (codes "$(A -g)")))) ∷ on_line 11 (Apply (ChangeValue (One None) (codes "X") (edits.Add (codes "$ b")))) ∷ on_line 12 (Apply (AddLine Top (NewRule (codes "a") Single (codes "b")))) ∷ on_line 13 (Apply (ExchangeLines (OfRun None (block_lines (codes "# t = 1"))) [])) ∷ [])) ∷  -- further-run-153
    []

answers_3 : map (λ row. read_script row.0) rows_3 ≡ map (λ row. row.1) rows_3
unfolding line_len lines_from
answers_3 = refl

abbrev rows_4 : List (List ℕ × Result (List Step) ℕ)
rows_4 =
    (codes "try  assign  after-last-var  F  F  +=  -O2\nundo\noperator  X  :=\nnth 4294967295 set override \"$ b b\"\n\nor rule after-last-var F \"c\" : a\n\"rule\" after-rule c x.o : a\nvalues-subst \"$ \" x\ntry line-replace \"F ::=x\" \"F ::=x\"", Ok (tried_on 1 (AddLine (AfterLastVar (codes "F")) (NewAssign (codes "F") Append (codes "-O2"))) ∷ on_line 2 Undo ∷ on_line 3 (Apply (ChangeLine None (codes "X") (edits.SetOperator Simple))) ∷ Chain (edit_on 4 (ChangeValue (One (Some 4294967295)) (codes "override") (edits.Set (codes "$ b b")))) (edit_on 6 (AddLine (AfterLastVar (codes "F")) (NewRule (codes "c") Single (codes "a")))) [] ∷ on_line 7 (Apply (AddLine (AfterRule None (codes "c")) (NewRule (codes "x.o") Single (codes "a")))) ∷ on_line 8 (Apply (EachLine (SubstValues (codes "$ ") (codes "x")))) ∷ tried_on 9 (ExchangeLines (OfRun None (block_lines (codes "F ::=x"))) (block_lines (codes "F ::=x"))) ∷ [])) ∷  -- further-run-154
    (codes "insert \"top\" <<9\n# a \\\n b\n9\n\"or\" nth 1 add-before F -g \"-lz\"\ntry insert after-rule i <<EOF\na:\nifdef A\nendif\nEOF\n", Ok (Chain (edit_on 1 (ExchangeLines (AtPlace Top) (block_lines (codes "# a \\\n b")))) (edit_on 5 (ChangeLine (Some 1) (codes "F") (edits.InsertWord Before (codes "-g") (codes "-lz")))) [] ∷ tried_on 6 (ExchangeLines (AtPlace (AfterRule None (codes "i"))) (block_lines (codes "a:\nifdef A\nendif"))) ∷ [])) ∷  -- further-run-155
    (codes "all prepend a.b -g\ninsert \"before-line\" \"-include b.mk\" <<E\ninclude a.mk\nE\nvalues-subst -g x\ntry \"replace\" a.b \"x\" \"x=1 x=1\"\nnth 002 add-before a.b x=1 \"$(new a)\"\n# c\n or line-remove \"-include b.mk\"\nall replace a.b x=1 \"a -g\"\ntry  insert  after-last-var  a.b  <<E\nifdef A\nX = 1\nendif\nE\nnth 000 prepend a.b \"$ b\"\nor replace a.b a \"$(t -g)\"\n", Ok (on_line 1 (Apply (EachLine (ChangeEach (codes "a.b") (edits.Prepend (codes "-g"))))) ∷ on_line 2 (Apply (ExchangeLines (BeforeRun None (block_lines (codes "-include b.mk"))) (block_lines (codes "include a.mk")))) ∷ on_line 5 (Apply (EachLine (SubstValues (codes "-g") (codes "x")))) ∷ tried_on 6 (ChangeLine None (codes "a.b") (edits.ReplaceWord (codes "x") (codes "x=1 x=1"))) ∷ Chain (edit_on 7 (ChangeLine (Some 2) (codes "a.b") (edits.InsertWord Before (codes "x=1") (codes "$(new a)")))) (edit_on 9 (ExchangeLines (OfRun None (block_lines (codes "-include b.mk"))) [])) [] ∷ on_line 10 (Apply (EachLine (ChangeEach (codes "a.b") (edits.ReplaceWord (codes "x=1") (codes "a -g"))))) ∷ tried_on 11 (ExchangeLines (AtPlace (AfterLastVar (codes "a.b"))) (block_lines (codes "ifdef A\nX = 1\nendif"))) ∷ Chain (edit_on 16 (ChangeLine (Some 0) (codes "a.b") (edits.Prepend (codes "$ b")))) (edit_on 17 (ChangeLine None (codes "a.b") (edits.ReplaceWord (codes "a") (codes "$(t -g)")))) [] ∷ [])) ∷  -- further-run-156
    (codes "try nth 1 comment-out a.b\n\"nth\"\t3\tinsert\tbefore-line\t\"F = a\"\t\"F = a\"\n\nor all set-if F a \"-O2 \\\\#\"\nnth  2  add-before  F  a  -lz\n\"or\"  \"nth\"  001  add  \"F\"  \"a\"\n# c\n or assign \"after-rule\" x.o F \"!=\" \"${c} -O2\"\n# c\nor \"nth\" 3 comment-out F\n try  nth  2  set  F  \"\"\nadd-before X -g x.c\n# c\n\"or\" nth 001 \"line-remove\" \"F = a\"\n# c\n\"or\" insert \"bottom\" <<X\nx \\\n\nX\nall\toperator\t\"X\"\t+=\n\"or\" nth \"2\" set F \"\"\ntry \"line-remove\" <<E\ndefine D \\\n e\nendef\nE\nall operator F +=\n", Ok (tried_on 1 (SwitchLine CommentOut (Some 1) (codes "a.b")) ∷ Chain (edit_on 2 (ExchangeLines (BeforeRun (Some 3) (block_lines (codes "F = a"))) (block_lines (codes "F = a")))) (edit_on 4 (ChangeValue Every (codes "F") (edits.SetIf (codes "a") (codes "-O2 \\#")))) [] ∷ Chain (edit_on 5 (ChangeLine (Some 2) (codes "F") (edits.InsertWord Before (codes "a") (codes "-lz")))) (edit_on 6 (ChangeValue (One (Some 1)) (codes "F") (edits.Add (codes "a")))) ((edit_on 8 (AddLine (AfterRule None (codes "x.o")) (NewAssign (codes "F") Shell (codes "${c} -O2")))) ∷ (edit_on 10 (SwitchLine CommentOut (Some 3) (codes "F"))) ∷ []) ∷ tried_on 11 (ChangeValue (One (Some 2)) (codes "F") (edits.Set [])) ∷ Chain (edit_on 12 (ChangeLine None (codes "X") (edits.InsertWord Before (codes "-g") (codes "x.c")))) (edit_on 14 (ExchangeLines (OfRun (Some 1) (block_lines (codes "F = a"))) [])) ((edit_on 16 (ExchangeLines (AtPlace Bottom) (block_lines (codes "x \\\n")))) ∷ []) ∷ Chain (edit_on 20 (EachLine (ChangeEach (codes "X") (edits.SetOperator Append)))) (edit_on 21 (ChangeValue (One (Some 2)) (codes "F") (edits.Set []))) [] ∷ tried_on 22 (ExchangeLines (OfRun None (block_lines (codes "define D \\\n e\nendef"))) []) ∷ on_line 27 (Apply (EachLine (ChangeEach (codes "F") (edits.SetOperator Append)))) ∷ [])) ∷  -- further-run-157
    (codes "\"try\" values-subst \" b -O2\" x\ntry nth 0 depend-replace d \"$(w a)\" .PHONY\n\"values-subst\"  F  \" \\\\\"\n", Ok (tried_on 1 (EachLine (SubstValues (codes " b -O2") (codes "x"))) ∷ tried_on 2 (ChangePrereqs (Some 0) (codes "d") (ReplacePrereq (codes "$(w a)") (codes ".PHONY"))) ∷ on_line 3 (Apply (EachLine (SubstValues (codes "F") (codes " \\")))) ∷ [])) ∷  -- further-run-158
    (codes "nth\t001\tline-replace\t\"endif\"\t<<_\r\nifdef A\r\nendif\r\nendif\r\n_\r\nnth 1 \"line-replace\" \"ifdef A\" <<_\r\nelse\r\nifdef A\r\n_\r\n", Ok (on_line 1 (Apply (ExchangeLines (OfRun (Some 1) (block_lines (codes "endif"))) (block_lines (codes "ifdef A\nendif\nendif")))) ∷ on_line 6 (Apply (ExchangeLines (OfRun (Some 1) (block_lines (codes "ifdef A"))) (block_lines (codes "else\nifdef A")))) ∷ [])) ∷  -- further-run-159
    (codes "\"all\" set F \"a\\\\ b\"\n \"set-if\" F a \"\"\nor \"undepend\" a \"$(w a)\"\ncomment-out override\n\"rule-remove\"  i\n nth  001  depend-replace  i  \\  %.c\nnth 4294967295 depend-replace a \"$(w a)\" a\nrecipe-insert  a  001  \"a\0\"\nundo\nrecipes-subst a ab\n \nor nth 2 add \"F\" \"|\"\nor operator \"X\" !=\n# c\nor subst \"F\" \"$(w a)\" x=1\n", Ok (on_line 1 (Apply (ChangeValue Every (codes "F") (edits.Set (codes "a\\ b")))) ∷ Chain (edit_on 2 (ChangeValue (One None) (codes "F") (edits.SetIf (codes "a") []))) (edit_on 3 (ChangePrereqs None (codes "a") (RemovePrereq (codes "$(w a)")))) [] ∷ on_line 4 (Apply (SwitchLine CommentOut None (codes "override"))) ∷ on_line 5 (Apply (ExchangeLines (OfRuleRun None (codes "i")) [])) ∷ on_line 6 (Apply (ChangePrereqs (Some 1) (codes "i") (ReplacePrereq (codes "\\") (codes "%.c")))) ∷ on_line 7 (Apply (ChangePrereqs (Some 4294967295) (codes "a") (ReplacePrereq (codes "$(w a)") (codes "a")))) ∷ on_line 8 (Apply (AddRecipe None (codes "a") (At 1) (codes "a\0"))) ∷ on_line 9 Undo ∷ Chain (edit_on 10 (EachLine (SubstRecipes (codes "a") (codes "ab")))) (edit_on 12 (ChangeValue (One (Some 2)) (codes "F") (edits.Add (codes "|")))) ((edit_on 13 (ChangeLine None (codes "X") (edits.SetOperator Shell))) ∷ (edit_on 15 (ChangeLine None (codes "F") (edits.Substitute (codes "$(w a)") (codes "x=1")))) ∷ []) ∷ [])) ∷  -- further-run-160
    (codes "try comment-out F\r\ninsert \"bottom\" \"#override = 1\"\r\nor insert after-line \"#override = 1\" <<_\r\n-include b.mk\r\n_\r\n", Ok (tried_on 1 (SwitchLine CommentOut None (codes "F")) ∷ Chain (edit_on 2 (ExchangeLines (AtPlace Bottom) (block_lines (codes "#override = 1")))) (edit_on 3 (ExchangeLines (AfterRun None (block_lines (codes "#override = 1"))) (block_lines (codes "-include b.mk")))) [] ∷ [])) ∷  -- further-run-161
    (codes "try \"values-subst\" \" $\" x=1\ndrop F \"a)\"\ninsert bottom <<E\n# c\nor\nE\ntry add-before F x=1x=1(w x.c", Ok (tried_on 1 (EachLine (SubstValues (codes " $") (codes "x=1"))) ∷ on_line 2 (Apply (ChangeValue (One None) (codes "F") (edits.Remove (codes "a)")))) ∷ on_line 3 (Apply (ExchangeLines (AtPlace Bottom) (block_lines (codes "# c\nor")))) ∷ tried_on 7 (ChangeLine None (codes "F") (edits.InsertWord Before (codes "x=1x=1(w") (codes "x.c"))) ∷ [])) ∷  -- further-run-162
    (codes " try insert after-line <<O1 <<9\nelse\nO1\nifdef A\n\tx\nelse\n\ty\nendif\n9\nrecipe-insert d 1 \"ifdef Q\"\nor recipe-remove c \"x \\\\ y\"\n# c\n\"or\" line-replace \"\" <<EOF\n\n\t  cc $$f; \\\nX = ababa\nEOF\n \nor nth \"1\" line-remove else\nall  drop  F  |\n", Ok (tried_on 1 (ExchangeLines (AfterRun None (block_lines (codes "else"))) (block_lines (codes "ifdef A\n\tx\nelse\n\ty\nendif"))) ∷ Chain (edit_on 10 (AddRecipe None (codes "d") (At 1) (codes "ifdef Q"))) (edit_on 11 (RemoveLines (OfRecipe None (codes "c") (ByText (codes "x \\ y"))))) ((edit_on 13 (ExchangeLines (OfRun None (block_lines [])) (block_lines (codes "\n\t  cc $$f; \\\nX = ababa")))) ∷ (edit_on 19 (ExchangeLines (OfRun (Some 1) (block_lines (codes "else"))) [])) ∷ []) ∷ on_line 20 (Apply (ChangeValue Every (codes "F") (edits.Remove (codes "|")))) ∷ [])) ∷  -- further-run-163
    (codes "line-replace <<EOF <<_\n\t  cc $\\$f; \t\\\nF = a a\nEOF\n \nF = -g\n\t  cc $\\$f; \t\\\nF = a a\n_\ninsert before-var F <<EOF\nx \\\n\nEOF\nbegin\ntry line-remove \" \"\nrecipe-remove c \"\ttrue\"\n\"or\" nth 1 \"set-if\" F -g \"$\\\\x\"\n\n\"or\" rule \"after-last-var\" override \"c\" :: \"a b\"\n\nor values-subst -g aa\n", Ok (on_line 1 (Apply (ExchangeLines (OfRun None (block_lines (codes "\t  cc $\\$f; \t\\\nF = a a"))) (block_lines (codes " \nF = -g\n\t  cc $\\$f; \t\\\nF = a a")))) ∷ on_line 10 (Apply (ExchangeLines (AtPlace (BeforeVar None (codes "F"))) (block_lines (codes "x \\\n")))) ∷ on_line 14 Begin ∷ tried_on 15 (ExchangeLines (OfRun None (block_lines (codes " "))) []) ∷ Chain (edit_on 16 (RemoveLines (OfRecipe None (codes "c") (ByText (codes "\ttrue"))))) (edit_on 17 (ChangeValue (One (Some 1)) (codes "F") (edits.SetIf (codes "-g") (codes "$\\x")))) ((edit_on 19 (AddLine (AfterLastVar (codes "override")) (NewRule (codes "c") Double (codes "a b")))) ∷ (edit_on 21 (EachLine (SubstValues (codes "-g") (codes "aa")))) ∷ []) ∷ [])) ∷  -- further-run-164
    (codes "nth  \"0\"  line-remove  <<_\r\noverride X= a\\\\ $(a\tb) -g -g\\\r\n\t=#\r\n_\r\ndrop X \"-g\"\r\nprepend\tX\ta\r\nadd-before F x=1 -lz\r\n \"line-replace\" <<end <<O1\r\noverride X= a a\\\\ $(a\tb)\\\r\n\t=#\r\nend\r\noverride X= a a\\\\ $(a\tb)\\\r\n\t=#\r\nO1\r\nor rule after-var X \"d\" : \"a b\"\r\n", Ok (on_line 1 (Apply (ExchangeLines (OfRun (Some 0) (block_lines (codes "override X= a\\\\ $(a\tb) -g -g\\\n\t=#"))) [])) ∷ on_line 5 (Apply (ChangeValue (One None) (codes "X") (edits.Remove (codes "-g")))) ∷ on_line 6 (Apply (ChangeLine None (codes "X") (edits.Prepend (codes "a")))) ∷ on_line 7 (Apply (ChangeLine None (codes "F") (edits.InsertWord Before (codes "x=1") (codes "-lz")))) ∷ Chain (edit_on 8 (ExchangeLines (OfRun None (block_lines (codes "override X= a a\\\\ $(a\tb)\\\n\t=#"))) (block_lines (codes "override X= a a\\\\ $(a\tb)\\\n\t=#")))) (edit_on 15 (AddLine (AfterVar None (codes "X")) (NewRule (codes "d") Single (codes "a b")))) [] ∷ [])) ∷  -- further-run-165
    (codes "line-replace <<end <<X\r\n.RECIPEPREFIX = t\r\nF ?= -g a \r\nend\r\n.RECIPEPREFIX = t\r\nF ?= -g a \r\n# n\r\n\t\r\nX\r\nor line-replace <<end <<O1\r\n# n\r\n\t\r\nend\r\ndefine D\r\nx\r\nendef\r\nO1\r\nor comment-out a.b\r\n \r\n or add-after F \"a\" -g\r\nnth\t002\tline-replace\t\"\t\"\t\" \"\r\n or add-before \"F\" -g \"$(new a)\"\r\nredo\r\n", Ok (Chain (edit_on 1 (ExchangeLines (OfRun None (block_lines (codes ".RECIPEPREFIX = t\nF ?= -g a "))) (block_lines (codes ".RECIPEPREFIX = t\nF ?= -g a \n# n\n\t")))) (edit_on 10 (ExchangeLines (OfRun None (block_lines (codes "# n\n\t"))) (block_lines (codes "define D\nx\nendef")))) ((edit_on 18 (SwitchLine CommentOut None (codes "a.b"))) ∷ (edit_on 20 (ChangeLine None (codes "F") (edits.InsertWord After (codes "a") (codes "-g")))) ∷ []) ∷ Chain (edit_on 21 (ExchangeLines (OfRun (Some 2) (block_lines (codes "\t"))) (block_lines (codes " ")))) (edit_on 22 (ChangeLine None (codes "F") (edits.InsertWord Before (codes "-g") (codes "$(new a)")))) [] ∷ on_line 23 Redo ∷ [])) ∷  -- further-run-166
    (codes "\"assign\"\ttop\toverride\t::=\t\"-g\"\nnth 0 recipe-set \"d\" 000 \"\tb\"\nor insert \"after-last-var\" F <<E\nF =a$\\ -g  x=1\\\n\\\n$x \\\n    a\\ # a \\\\\nendif\nE\n\nor  \"nth\"  1  add-after  \"F\"  a  \"$(new a)\"\n\"or\"  recipe-insert  d  1  \"\ttrue\"\ndrop \"override\" -g\nnth\t\"1\"\t\"set\"\t\"F\"\t$\\x\nundo\n\"recipe-replace\" c \"a\" \"rm -rf x\"\nrule-replace\t\"c\"\t<<EOF\nc:\nifdef A\n\tx\nendif\nEOF\nnth 3 comment-out F\ninsert top <<E\nifdef A\nX = 1\nendif\nE", Ok (on_line 1 (Apply (AddLine Top (NewAssign (codes "override") PosixSimple (codes "-g")))) ∷ Chain (edit_on 2 (SetRecipe (Some 0) (codes "d") (ByNumber 0) (codes "\tb"))) (edit_on 3 (ExchangeLines (AtPlace (AfterLastVar (codes "F"))) (block_lines (codes "F =a$\\ -g  x=1\\\n\\\n$x \\\n    a\\ # a \\\\\nendif")))) ((edit_on 11 (ChangeLine (Some 1) (codes "F") (edits.InsertWord After (codes "a") (codes "$(new a)")))) ∷ (edit_on 12 (AddRecipe None (codes "d") (At 1) (codes "\ttrue"))) ∷ []) ∷ on_line 13 (Apply (ChangeValue (One None) (codes "override") (edits.Remove (codes "-g")))) ∷ on_line 14 (Apply (ChangeValue (One (Some 1)) (codes "F") (edits.Set (codes "$\\x")))) ∷ on_line 15 Undo ∷ on_line 16 (Apply (SetRecipe None (codes "c") (ByText (codes "a")) (codes "rm -rf x"))) ∷ on_line 17 (Apply (ExchangeLines (OfRuleRun None (codes "c")) (block_lines (codes "c:\nifdef A\n\tx\nendif")))) ∷ on_line 23 (Apply (SwitchLine CommentOut (Some 3) (codes "F"))) ∷ on_line 24 (Apply (ExchangeLines (AtPlace Top) (block_lines (codes "ifdef A\nX = 1\nendif")))) ∷ [])) ∷  -- further-run-167
    (codes "\"insert\" after-line \"# export F = a\" <<X\n\n\nX\nnth 002 recipe-insert a 1 \">a\"\n\nor operator \"X\" +=\nor nth 4294967295 \"set-if\" F b \"\"\nor all drop X \"1\"\n", Ok (on_line 1 (Apply (ExchangeLines (AfterRun None (block_lines (codes "# export F = a"))) (block_lines (codes "\n")))) ∷ Chain (edit_on 5 (AddRecipe (Some 2) (codes "a") (At 1) (codes ">a"))) (edit_on 7 (ChangeLine None (codes "X") (edits.SetOperator Append))) ((edit_on 8 (ChangeValue (One (Some 4294967295)) (codes "F") (edits.SetIf (codes "b") []))) ∷ (edit_on 9 (ChangeValue Every (codes "X") (edits.Remove (codes "1")))) ∷ []) ∷ [])) ∷  -- further-run-168
    (codes "begin\nassign after-rule c F :::= \"a$ \"\n", Ok (on_line 1 Begin ∷ on_line 2 (Apply (AddLine (AfterRule None (codes "c")) (NewAssign (codes "F") Immediate (codes "a$ ")))) ∷ [])) ∷  -- further-run-169
    (codes "try \"nth\" 001 \"add-after\" F a -O3\ninsert after-last-var F <<O1\nX = 1\n\nO1\n insert after-rule i <<_\nX = 1\n\n_\n\"try\" set-if F -g $x\nline-replace <<E <<E\ni: \nX = 1\nE\ni: \nE\n\"or\" \"assign\" after-rule i \"X\" += -g\n\"assign\" after-rule i a.b \":=\" \\\\a\nadd-after F <<E a\nrecipe-insert  i  001  t\n\nor insert after-last-var F <<_\na:\nifdef A\nendif\n_", Ok (tried_on 1 (ChangeLine (Some 1) (codes "F") (edits.InsertWord After (codes "a") (codes "-O3"))) ∷ on_line 2 (Apply (ExchangeLines (AtPlace (AfterLastVar (codes "F"))) (block_lines (codes "X = 1\n")))) ∷ on_line 6 (Apply (ExchangeLines (AtPlace (AfterRule None (codes "i"))) (block_lines (codes "X = 1\n")))) ∷ tried_on 10 (ChangeValue (One None) (codes "F") (edits.SetIf (codes "-g") (codes "$x"))) ∷ Chain (edit_on 11 (ExchangeLines (OfRun None (block_lines (codes "i: \nX = 1"))) (block_lines (codes "i: ")))) (edit_on 17 (AddLine (AfterRule None (codes "i")) (NewAssign (codes "X") Append (codes "-g")))) [] ∷ on_line 18 (Apply (AddLine (AfterRule None (codes "i")) (NewAssign (codes "a.b") Simple (codes "\\\\a")))) ∷ on_line 19 (Apply (ChangeLine None (codes "F") (edits.InsertWord After (codes "<<E") (codes "a")))) ∷ Chain (edit_on 20 (AddRecipe None (codes "i") (At 1) (codes "t"))) (edit_on 22 (ExchangeLines (AtPlace (AfterLastVar (codes "F"))) (block_lines (codes "a:\nifdef A\nendif")))) [] ∷ [])) ∷  -- further-run-170
    (codes "line-replace\t\" # \\\\\"\t<<9\nifdef A\n # \\\nendif\n9\nappend X \"a\\\\ -g\"\n \nor nth 001 line-remove <<O1\n # \\\nO1\ninsert top <<E <<F\na\nE\nb\nF\ntry nth 1 line-remove <<_\n # \\\n_\ntry  line-replace  zz  \"\"\nassign top X = 1\n try line-replace <<X <<X\nX = 1\nX\nendef\na\0b\nX\nrule \"before-rule\" c c :: \"\"\nnth 002 assign after-var X X :::= \"\"\ntry add-before X \"1\" 1\n", Err 11) ∷  -- further-run-171
    (codes "values-subst\tababa\ta\\\nnth \"4294967295\" \"rule-replace\" \"c\" <<X\nc:\nifdef A\n\tx\nendif\nX\nor add-after override \"$(A -g)\" x.c\nline-remove <<EOF\nX = 1\nzz\nEOF\ncomment-out override\nundo\n", Ok (on_line 1 (Apply (EachLine (SubstValues (codes "ababa") (codes "a\\")))) ∷ Chain (edit_on 2 (ExchangeLines (OfRuleRun (Some 4294967295) (codes "c")) (block_lines (codes "c:\nifdef A\n\tx\nendif")))) (edit_on 8 (ChangeLine None (codes "override") (edits.InsertWord After (codes "$(A -g)") (codes "x.c")))) [] ∷ on_line 9 (Apply (ExchangeLines (OfRun None (block_lines (codes "X = 1\nzz"))) [])) ∷ on_line 13 (Apply (SwitchLine CommentOut None (codes "override"))) ∷ on_line 14 Undo ∷ [])) ∷  -- further-run-172
    (codes "\"try\" line-replace \"zz\" else\nline-replace\t<<EOF\t<<9\nF != a$\\ a ${v a\\\n\tb \nEOF\n\t# n\n\tababa aaa\n9\nbegin\nsubst F x=1 \"\"\n nth 0 set \"F\" \"-O2\"\nor insert after-line <<_ <<E\nF\\\n=\\\n\\\n$(a b)   =# \\\n d\n_\nF\\\n=\\\n\\\n$(a b)   =# \\\n d\n\t# n\n\tababa aaa\nE\n\nor nth 1 prepend a.b =\n\n\"or\" line-replace \"\t# n\" \"X = ababa\"", Ok (tried_on 1 (ExchangeLines (OfRun None (block_lines (codes "zz"))) (block_lines (codes "else"))) ∷ on_line 2 (Apply (ExchangeLines (OfRun None (block_lines (codes "F != a$\\ a ${v a\\\n\tb "))) (block_lines (codes "\t# n\n\tababa aaa")))) ∷ on_line 9 Begin ∷ on_line 10 (Apply (ChangeLine None (codes "F") (edits.Substitute (codes "x=1") []))) ∷ Chain (edit_on 11 (ChangeValue (One (Some 0)) (codes "F") (edits.Set (codes "-O2")))) (edit_on 12 (ExchangeLines (AfterRun None (block_lines (codes "F\\\n=\\\n\\\n$(a b)   =# \\\n d"))) (block_lines (codes "F\\\n=\\\n\\\n$(a b)   =# \\\n d\n\t# n\n\tababa aaa")))) ((edit_on 28 (ChangeLine (Some 1) (codes "a.b") (edits.Prepend (codes "=")))) ∷ (edit_on 30 (ExchangeLines (OfRun None (block_lines (codes "\t# n"))) (block_lines (codes "X = ababa")))) ∷ []) ∷ [])) ∷  -- further-run-173
    (codes "all prepend a.b \\#\r\nrename\t\"c\"\tt\r\nadd-after a.b \"$(A -g)\" \"-O3\"\r\ntry all set F a\r\nrule-replace a <<9\r\na:\r\n# n\r\n\r\n9\r\n try insert after-last-var F <<end\r\nelse\r\nX = 1\r\nend\r\nline-replace <<end <<E\r\na:\r\n# n\r\n\r\nend\r\nelse\r\nF = aaa aaaa # aa\r\nE\r\n", Ok (on_line 1 (Apply (EachLine (ChangeEach (codes "a.b") (edits.Prepend (codes "\\#"))))) ∷ on_line 2 (Apply (RenameTarget (codes "c") (codes "t"))) ∷ on_line 3 (Apply (ChangeLine None (codes "a.b") (edits.InsertWord After (codes "$(A -g)") (codes "-O3")))) ∷ tried_on 4 (ChangeValue Every (codes "F") (edits.Set (codes "a"))) ∷ on_line 5 (Apply (ExchangeLines (OfRuleRun None (codes "a")) (block_lines (codes "a:\n# n\n")))) ∷ tried_on 10 (ExchangeLines (AtPlace (AfterLastVar (codes "F"))) (block_lines (codes "else\nX = 1"))) ∷ on_line 14 (Apply (ExchangeLines (OfRun None (block_lines (codes "a:\n# n\n"))) (block_lines (codes "else\nF = aaa aaaa # aa")))) ∷ [])) ∷  -- further-run-174
    (codes "line-replace \"\ta\" <<_\nifneq (x,)\n\ta\nendif\n_\nall \"drop\" a.b \"b\"\nnth\t001\t\"line-remove\"\tendif\nend\nundo\nnth \"002\" insert after-line endif c:\n\"nth\" 1 rule-replace c <<O1\n\tfor f in x; do \\\n\t\nO1\n", Ok (on_line 1 (Apply (ExchangeLines (OfRun None (block_lines (codes "\ta"))) (block_lines (codes "ifneq (x,)\n\ta\nendif")))) ∷ on_line 6 (Apply (ChangeValue Every (codes "a.b") (edits.Remove (codes "b")))) ∷ on_line 7 (Apply (ExchangeLines (OfRun (Some 1) (block_lines (codes "endif"))) [])) ∷ on_line 8 End ∷ on_line 9 Undo ∷ on_line 10 (Apply (ExchangeLines (AfterRun (Some 2) (block_lines (codes "endif"))) (block_lines (codes "c:")))) ∷ on_line 11 (Apply (ExchangeLines (OfRuleRun (Some 1) (codes "c")) (block_lines (codes "\tfor f in x; do \\\n\t")))) ∷ [])) ∷  -- further-run-175
    (codes "drop X \"$(a\tb)\"\nnth 000 subst X \"\\\\\" $$\n \nor nth 1 append F \"$ b\"\ntry\t\"nth\"\t\"001\"\tset\tF\t\"$(q:;=|)\"", Ok (on_line 1 (Apply (ChangeValue (One None) (codes "X") (edits.Remove (codes "$(a\tb)")))) ∷ Chain (edit_on 2 (ChangeLine (Some 0) (codes "X") (edits.Substitute (codes "\\") (codes "$$")))) (edit_on 4 (ChangeValue (One (Some 1)) (codes "F") (edits.Append (codes "$ b")))) [] ∷ tried_on 5 (ChangeValue (One (Some 1)) (codes "F") (edits.Set (codes "$(q:;=|)"))) ∷ [])) ∷  -- further-run-176
    (codes "redo\r\nundo\r\nline-replace \"#override\texport X := b\" <<end\r\n\tdone\r\n#X = 1\r\nend\r\n\"nth\" \"4294967295\" line-replace <<end <<E\r\n#X = 1\r\nend\r\nifdef Q\r\na\\\r\nE\r\nassign bottom \"X\" = a\r\ncomment-out F\r\n comment-out \"X\"\r\n", Ok (on_line 1 Redo ∷ on_line 2 Undo ∷ on_line 3 (Apply (ExchangeLines (OfRun None (block_lines (codes "#override\texport X := b"))) (block_lines (codes "\tdone\n#X = 1")))) ∷ on_line 7 (Apply (ExchangeLines (OfRun (Some 4294967295) (block_lines (codes "#X = 1"))) (block_lines (codes "ifdef Q\na\\")))) ∷ on_line 13 (Apply (AddLine Bottom (NewAssign (codes "X") Recursive (codes "a")))) ∷ on_line 14 (Apply (SwitchLine CommentOut None (codes "F"))) ∷ on_line 15 (Apply (SwitchLine CommentOut None (codes "X"))) ∷ [])) ∷  -- further-run-177
    (codes "insert\t\"bottom\"\t<<X\nx \\\n\nX\nline-replace <<E <<E\nx \\\n\nE\nifneq (x,)\nx \\\n\nendif\nE\n\"nth\" 0 recipe-insert c 1 \"\"\n line-replace\tendif\t\"endif\"\n \n\"or\" nth 002 unset a.b\n \"or\" insert after-rule c <<9\nifdef B\nifdef C\nendif\nendif\n9\nnth 4294967295 line-remove endif\n", Ok (on_line 1 (Apply (ExchangeLines (AtPlace Bottom) (block_lines (codes "x \\\n")))) ∷ on_line 5 (Apply (ExchangeLines (OfRun None (block_lines (codes "x \\\n"))) (block_lines (codes "ifneq (x,)\nx \\\n\nendif")))) ∷ on_line 14 (Apply (AddRecipe (Some 0) (codes "c") (At 1) [])) ∷ Chain (edit_on 15 (ExchangeLines (OfRun None (block_lines (codes "endif"))) (block_lines (codes "endif")))) (edit_on 17 (RemoveLines (OfAssign (Some 2) (codes "a.b")))) ((edit_on 18 (ExchangeLines (AtPlace (AfterRule None (codes "c"))) (block_lines (codes "ifdef B\nifdef C\nendif\nendif")))) ∷ []) ∷ on_line 24 (Apply (ExchangeLines (OfRun (Some 4294967295) (block_lines (codes "endif"))) [])) ∷ [])) ∷  -- further-run-178
    (codes "try nth 2 line-replace <<_ <<end\r\nF ?=  \r\n_\r\n \r\n>x\r\nend\r\nvalues-subst \\ \"-O3\"\r\n \r\nor insert after-last-var F <<EOF\r\n>x\r\nEOF\r\n", Ok (tried_on 1 (ExchangeLines (OfRun (Some 2) (block_lines (codes "F ?=  "))) (block_lines (codes " \n>x"))) ∷ Chain (edit_on 7 (EachLine (SubstValues (codes "\\") (codes "-O3")))) (edit_on 9 (ExchangeLines (AtPlace (AfterLastVar (codes "F"))) (block_lines (codes ">x")))) [] ∷ [])) ∷  -- further-run-179
    (codes " insert after-rule c \"\ttrue\"\r\n\"subst\" F -g \"\"\r\nend\r\n\"add-after\" F \"a b\" \"$(new a)\"\r\nall operator F :::=\r\n", Ok (on_line 1 (Apply (ExchangeLines (AtPlace (AfterRule None (codes "c"))) (block_lines (codes "\ttrue")))) ∷ on_line 2 (Apply (ChangeLine None (codes "F") (edits.Substitute (codes "-g") []))) ∷ on_line 3 End ∷ on_line 4 (Apply (ChangeLine None (codes "F") (edits.InsertWord After (codes "a b") (codes "$(new a)")))) ∷ on_line 5 (Apply (EachLine (ChangeEach (codes "F") (edits.SetOperator Immediate)))) ∷ [])) ∷  -- further-run-180
    (codes "\"line-replace\" <<X \"\tcc -s x\"\r\nF ?= x=1 a\\\r\n\\\r\n$\\\r\n -O2 \r\nX\r\nundo\r\ntry set-if F \"a:b\" \"-g\"\r\nall replace F a \"$ b\"\r\nor append X \"$(w a) \\\\\\\\a\"\r\n \r\nor \"nth\" \"000\" add F \"$(A -g)\"\r\n \r\nor add-before \"F\" \"$ -O2\" -O3\r\ntry nth 1 replace F \"$ -O2\" \"a \"\r\n\"add-after\"\tF\t\"$ -O2\"\t-lz", Ok (on_line 1 (Apply (ExchangeLines (OfRun None (block_lines (codes "F ?= x=1 a\\\n\\\n$\\\n -O2 "))) (block_lines (codes "\tcc -s x")))) ∷ on_line 7 Undo ∷ tried_on 8 (ChangeValue (One None) (codes "F") (edits.SetIf (codes "a:b") (codes "-g"))) ∷ Chain (edit_on 9 (EachLine (ChangeEach (codes "F") (edits.ReplaceWord (codes "a") (codes "$ b"))))) (edit_on 10 (ChangeValue (One None) (codes "X") (edits.Append (codes "$(w a) \\\\a")))) ((edit_on 12 (ChangeValue (One (Some 0)) (codes "F") (edits.Add (codes "$(A -g)")))) ∷ (edit_on 14 (ChangeLine None (codes "F") (edits.InsertWord Before (codes "$ -O2") (codes "-O3")))) ∷ []) ∷ tried_on 15 (ChangeLine (Some 1) (codes "F") (edits.ReplaceWord (codes "$ -O2") (codes "a "))) ∷ on_line 16 (Apply (ChangeLine None (codes "F") (edits.InsertWord After (codes "$ -O2") (codes "-lz")))) ∷ [])) ∷  -- further-run-181
    (codes "\"nth\"  2  replace  X  |  |\n or line-remove <<E\nX = 1\nzz\nE\n\"or\" all replace \"X\" a\0 \"\\\\\\\\a b\"\nassign  bottom  t  :=  \"\"\nundo\nall  set-if  \"X\"  \"| x=1\"  b\ncancel\n\"nth\" 2 rule-replace c <<end\nc:\nifdef A\n\tx\nendif\nend\n# c\nor \"recipes-subst\" \"\" \"a b\"\n\"or\"\trecipe-replace\tc\t\"# n\"\tb\ndrop X b\n# c\nor nth 2 rule-replace x.o <<end\nendif\nifdef B\nend\nor\tnth\t4294967295\t\"add\"\tX\t\"$x\"\nrecipe-subst c \"\0\" ab\n", Ok (Chain (edit_on 1 (ChangeLine (Some 2) (codes "X") (edits.ReplaceWord (codes "|") (codes "|")))) (edit_on 2 (ExchangeLines (OfRun None (block_lines (codes "X = 1\nzz"))) [])) ((edit_on 6 (EachLine (ChangeEach (codes "X") (edits.ReplaceWord (codes "a\0") (codes "\\\\a b"))))) ∷ []) ∷ on_line 7 (Apply (AddLine Bottom (NewAssign (codes "t") Simple []))) ∷ on_line 8 Undo ∷ on_line 9 (Apply (ChangeValue Every (codes "X") (edits.SetIf (codes "| x=1") (codes "b")))) ∷ on_line 10 Cancel ∷ Chain (edit_on 11 (ExchangeLines (OfRuleRun (Some 2) (codes "c")) (block_lines (codes "c:\nifdef A\n\tx\nendif")))) (edit_on 18 (EachLine (SubstRecipes [] (codes "a b")))) ((edit_on 19 (SetRecipe None (codes "c") (ByText (codes "# n")) (codes "b"))) ∷ []) ∷ Chain (edit_on 20 (ChangeValue (One None) (codes "X") (edits.Remove (codes "b")))) (edit_on 22 (ExchangeLines (OfRuleRun (Some 2) (codes "x.o")) (block_lines (codes "endif\nifdef B")))) ((edit_on 26 (ChangeValue (One (Some 4294967295)) (codes "X") (edits.Add (codes "$x")))) ∷ []) ∷ on_line 27 (Apply (EachLine (SubstRecipe None (codes "c") (codes "\0") (codes "ab")))) ∷ [])) ∷  -- further-run-182
    (codes "nth 4294967295 line-remove endif\n\"nth\" \"1\" line-remove <<E\nifdef A\nE\n\"nth\" 2 depend-replace \"i\" ${c} \"$(f {)\"\n or\tline-remove\t<<end\n\tfor f in x; do \\\n\t  cc $$f; \\\n\tdone\nend\n \n\"or\" replace F \"x$(a  b)\" \"a$ b\"\n", Ok (on_line 1 (Apply (ExchangeLines (OfRun (Some 4294967295) (block_lines (codes "endif"))) [])) ∷ on_line 2 (Apply (ExchangeLines (OfRun (Some 1) (block_lines (codes "ifdef A"))) [])) ∷ Chain (edit_on 5 (ChangePrereqs (Some 2) (codes "i") (ReplacePrereq (codes "${c}") (codes "$(f {)")))) (edit_on 6 (ExchangeLines (OfRun None (block_lines (codes "\tfor f in x; do \\\n\t  cc $$f; \\\n\tdone"))) [])) ((edit_on 12 (ChangeLine None (codes "F") (edits.ReplaceWord (codes "x$(a  b)") (codes "a$ b")))) ∷ []) ∷ [])) ∷  -- further-run-183
    (codes "\"assign\" after-last-var F \"F\" += \"\"\nassign after-last-var override \"F\" != \"x=1 $\\\\x\"\nrename a \"a\"\ntry \"recipe-replace\" d \"ifdef Q\" a\n", Ok (on_line 1 (Apply (AddLine (AfterLastVar (codes "F")) (NewAssign (codes "F") Append []))) ∷ on_line 2 (Apply (AddLine (AfterLastVar (codes "override")) (NewAssign (codes "F") Shell (codes "x=1 $\\x")))) ∷ on_line 3 (Apply (RenameTarget (codes "a") (codes "a"))) ∷ tried_on 4 (SetRecipe None (codes "d") (ByText (codes "ifdef Q")) (codes "a")) ∷ [])) ∷  -- further-run-184
    (codes "nth \"1\" \"insert\" after-var a.b <<O1\nifdef A\n\tx\nelse\n\ty\nendif\nO1\nor \"nth\" \"000\" append F \"a a$ b\"\n\"or\" rule after-last-var override d :: \"a b\"\n\"insert\" \"after-rule\" d \"\tfor f in x; do \\\\\"\ntry\t\"add-before\"\tF\t\";\"\t\"$ b\"\n\"line-remove\" \"c include: ;\r\"\ninsert top <<EOF\nendef\n\tdone\nEOF\nline-replace <<EOF <<E\n\tdone\nEOF\nifneq (x,)\n\tdone\nendif\nE\n\"insert\" before-line \"\tdone\" <<9\nifneq (x,)\n\tdone\n9\nnth\t\"2\"\t\"line-remove\"\tendef\nline-replace  endif  <<end\nifneq (x,)\nendif\nendif\nend\n", Ok (Chain (edit_on 1 (ExchangeLines (AtPlace (AfterVar (Some 1) (codes "a.b"))) (block_lines (codes "ifdef A\n\tx\nelse\n\ty\nendif")))) (edit_on 8 (ChangeValue (One (Some 0)) (codes "F") (edits.Append (codes "a a$ b")))) ((edit_on 9 (AddLine (AfterLastVar (codes "override")) (NewRule (codes "d") Double (codes "a b")))) ∷ []) ∷ on_line 10 (Apply (ExchangeLines (AtPlace (AfterRule None (codes "d"))) (block_lines (codes "\tfor f in x; do \\")))) ∷ tried_on 11 (ChangeLine None (codes "F") (edits.InsertWord Before (codes ";") (codes "$ b"))) ∷ on_line 12 (Apply (ExchangeLines (OfRun None (block_lines (codes "c include: ;\r"))) [])) ∷ on_line 13 (Apply (ExchangeLines (AtPlace Top) (block_lines (codes "endef\n\tdone")))) ∷ on_line 17 (Apply (ExchangeLines (OfRun None (block_lines (codes "\tdone"))) (block_lines (codes "ifneq (x,)\n\tdone\nendif")))) ∷ on_line 24 (Apply (ExchangeLines (BeforeRun None (block_lines (codes "\tdone"))) (block_lines (codes "ifneq (x,)\n\tdone")))) ∷ on_line 28 (Apply (ExchangeLines (OfRun (Some 2) (block_lines (codes "endef"))) [])) ∷ on_line 29 (Apply (ExchangeLines (OfRun None (block_lines (codes "endif"))) (block_lines (codes "ifneq (x,)\nendif\nendif")))) ∷ [])) ∷  -- further-run-185
    (codes "line-remove\t<<9\n\tababa aaa\n9\n\"try\" insert bottom <<O1\nX = 1\n\nO1\ntry line-replace <<EOF <<9\nX = 1\n\nEOF\nX = 1\n\n9\n\"rule\" top c :: \"a\"\ntry \"insert\" before-rule \"c\" <<_\n\tfor f in x; do \\\nifdef A\n_\n\"set-if\" X \"1\" b\ntry nth 4294967295 set-if X \"-O2 b\" \\#", Ok (on_line 1 (Apply (ExchangeLines (OfRun None (block_lines (codes "\tababa aaa"))) [])) ∷ tried_on 4 (ExchangeLines (AtPlace Bottom) (block_lines (codes "X = 1\n"))) ∷ tried_on 8 (ExchangeLines (OfRun None (block_lines (codes "X = 1\n"))) (block_lines (codes "X = 1\n"))) ∷ on_line 15 (Apply (AddLine Top (NewRule (codes "c") Double (codes "a")))) ∷ tried_on 16 (ExchangeLines (AtPlace (BeforeRule None (codes "c"))) (block_lines (codes "\tfor f in x; do \\\nifdef A"))) ∷ on_line 20 (Apply (ChangeValue (One None) (codes "X") (edits.SetIf (codes "1") (codes "b")))) ∷ tried_on 21 (ChangeValue (One (Some 4294967295)) (codes "X") (edits.SetIf (codes "-O2 b") (codes "\\#"))) ∷ [])) ∷  -- further-run-186
    (codes " nth 0 line-replace \"endif\" <<9\r\n#X = 1\r\nF = aaa aaaa # aa\r\n9\r\ninsert\t\"before-var\"\tF\t\"F = a \\\\\"\r\nline-replace \"F = -g\" <<9\r\nF = -g\r\nendif\r\n9\r\nundo\r\nbegin\r\n", Ok (on_line 1 (Apply (ExchangeLines (OfRun (Some 0) (block_lines (codes "endif"))) (block_lines (codes "#X = 1\nF = aaa aaaa # aa")))) ∷ on_line 5 (Apply (ExchangeLines (AtPlace (BeforeVar None (codes "F"))) (block_lines (codes "F = a \\")))) ∷ on_line 6 (Apply (ExchangeLines (OfRun None (block_lines (codes "F = -g"))) (block_lines (codes "F = -g\nendif")))) ∷ on_line 10 Undo ∷ on_line 11 Begin ∷ [])) ∷  -- further-run-187
    (codes "rule after-var \"F\" c : \"\"\n# c\n\"or\" insert after-line <<O1 <<X\n#c \\\n d\nO1\nendif\nifdef B\nX\nrecipe-replace %.o \"a # b\" \"t\"\n# c\n\"or\"\t\"append\"\tX\t\"-g \\\\\\\\a\"\n\"or\" \"recipes-subst\" \" \" $\n or insert after-rule \"a b\" \"define D\"\ninsert before-var \"\" \"\tdone\"\n\"try\" comment-out F\ntry nth 4294967295 line-remove <<EOF\n#c \\\n d\nEOF\n try \"nth\" 0 rule-replace \"c\" <<end\n# a \\\n b\nend\ntry insert before-var \"a.b\" <<X\nendef\ndefine D\nX\n", Ok (Chain (edit_on 1 (AddLine (AfterVar None (codes "F")) (NewRule (codes "c") Single []))) (edit_on 3 (ExchangeLines (AfterRun None (block_lines (codes "#c \\\n d"))) (block_lines (codes "endif\nifdef B")))) [] ∷ Chain (edit_on 10 (SetRecipe None (codes "%.o") (ByText (codes "a # b")) (codes "t"))) (edit_on 12 (ChangeValue (One None) (codes "X") (edits.Append (codes "-g \\\\a")))) ((edit_on 13 (EachLine (SubstRecipes (codes " ") (codes "$")))) ∷ (edit_on 14 (ExchangeLines (AtPlace (AfterRule None (codes "a b"))) (block_lines (codes "define D")))) ∷ []) ∷ on_line 15 (Apply (ExchangeLines (AtPlace (BeforeVar None [])) (block_lines (codes "\tdone")))) ∷ tried_on 16 (SwitchLine CommentOut None (codes "F")) ∷ tried_on 17 (ExchangeLines (OfRun (Some 4294967295) (block_lines (codes "#c \\\n d"))) []) ∷ tried_on 21 (ExchangeLines (OfRuleRun (Some 0) (codes "c")) (block_lines (codes "# a \\\n b"))) ∷ tried_on 25 (ExchangeLines (AtPlace (BeforeVar None (codes "a.b"))) (block_lines (codes "endef\ndefine D"))) ∷ [])) ∷  -- further-run-189
    (codes "try\tall\t\"set-if\"\tF\t\"b a$ b\"\t\"$(a b)\"\n\"try\" drop X \"$(s (b) a)\"\nprepend X -g\ninsert before-line <<E <<E\nX = 1\nE\n# x\nE\ndrop X -g\n\n\"or\" line-remove \"X= -g\"\ninsert after-line \"X= \" \"a: b\"\nrule-replace  a  <<9\na:\n# n\n\n9", Ok (tried_on 1 (ChangeValue Every (codes "F") (edits.SetIf (codes "b a$ b") (codes "$(a b)"))) ∷ tried_on 2 (ChangeValue (One None) (codes "X") (edits.Remove (codes "$(s (b) a)"))) ∷ on_line 3 (Apply (ChangeLine None (codes "X") (edits.Prepend (codes "-g")))) ∷ on_line 4 (Apply (ExchangeLines (BeforeRun None (block_lines (codes "X = 1"))) (block_lines (codes "# x")))) ∷ Chain (edit_on 9 (ChangeValue (One None) (codes "X") (edits.Remove (codes "-g")))) (edit_on 11 (ExchangeLines (OfRun None (block_lines (codes "X= -g"))) [])) [] ∷ on_line 12 (Apply (ExchangeLines (AfterRun None (block_lines (codes "X= "))) (block_lines (codes "a: b")))) ∷ on_line 13 (Apply (ExchangeLines (OfRuleRun None (codes "a")) (block_lines (codes "a:\n# n\n")))) ∷ [])) ∷  -- further-run-190
    (codes "insert after-line <<E <<end\na.b\\\n= ; \\\n \\\n -g\nc:: # c\nE\nendef\ndefine D\nend\n\"try\" recipe-subst \"c\" \"x\" /usr\n \"try\" nth \"0\" line-remove <<X\nc: # c\n\t/usr \\ y\nX\ntry nth 002 \"add-after\" X \"$$\" \"$(new a)\"\ntry nth \"4294967295\" rule-replace c <<EOF\na: b\nelse\nEOF\nappend F \"\"\n\"try\" recipe-insert \"c\" 1 \"a # b\"\nnth 001 recipe-insert c 2 \" a\"\n or all replace \"X\" \"b\" \\#\n", Ok (on_line 1 (Apply (ExchangeLines (AfterRun None (block_lines (codes "a.b\\\n= ; \\\n \\\n -g\nc:: # c"))) (block_lines (codes "endef\ndefine D")))) ∷ tried_on 11 (EachLine (SubstRecipe None (codes "c") (codes "x") (codes "/usr"))) ∷ tried_on 12 (ExchangeLines (OfRun (Some 0) (block_lines (codes "c: # c\n\t/usr \\ y"))) []) ∷ tried_on 16 (ChangeLine (Some 2) (codes "X") (edits.InsertWord After (codes "$$") (codes "$(new a)"))) ∷ tried_on 17 (ExchangeLines (OfRuleRun (Some 4294967295) (codes "c")) (block_lines (codes "a: b\nelse"))) ∷ on_line 21 (Apply (ChangeValue (One None) (codes "F") (edits.Append []))) ∷ tried_on 22 (AddRecipe None (codes "c") (At 1) (codes "a # b")) ∷ Chain (edit_on 23 (AddRecipe (Some 1) (codes "c") (At 2) (codes " a"))) (edit_on 24 (EachLine (ChangeEach (codes "X") (edits.ReplaceWord (codes "b") (codes "\\#"))))) [] ∷ [])) ∷  -- further-run-191
    (codes "line-replace \"\" <<E\r\nc d: a $(w a) b\r\n\r\nE\r\n\r\nor rule after-rule d c :: \"a b\"\r\n\r\n\"or\" recipe-insert d 1 \"say \\\"q\\\"\"\r\nnth 000 \"recipe-insert\" d 001 \"ifdef Q\"\r\nor rule top d : \"a b\"\r\nundo\r\nnth 0 recipe-replace d >a \"true\"\r\n\r\nor recipe-remove c \"\ttrue\"\r\n\"or\" line-replace \"\" \"\"\r\nor nth 1 insert after-rule c <<_\r\nc: d\r\n\tcp $< $@\r\n_\r\nassign before-rule c CC ?= \\#\r\n\"all\" subst CC \\# \"\"\r\ndepend-replace\td\tb\t$(s\\)\r\nnth 1 line-replace \"c d: a $(w a) $(s\\\\)\" <<end\r\n\t# n\r\n\tababa aaa\r\nend\r\n", Ok (Chain (edit_on 1 (ExchangeLines (OfRun None (block_lines [])) (block_lines (codes "c d: a $(w a) b\n")))) (edit_on 6 (AddLine (AfterRule None (codes "d")) (NewRule (codes "c") Double (codes "a b")))) ((edit_on 8 (AddRecipe None (codes "d") (At 1) (codes "say \"q\""))) ∷ []) ∷ Chain (edit_on 9 (AddRecipe (Some 0) (codes "d") (At 1) (codes "ifdef Q"))) (edit_on 10 (AddLine Top (NewRule (codes "d") Single (codes "a b")))) [] ∷ on_line 11 Undo ∷ Chain (edit_on 12 (SetRecipe (Some 0) (codes "d") (ByText (codes ">a")) (codes "true"))) (edit_on 14 (RemoveLines (OfRecipe None (codes "c") (ByText (codes "\ttrue"))))) ((edit_on 15 (ExchangeLines (OfRun None (block_lines [])) (block_lines []))) ∷ (edit_on 16 (ExchangeLines (AtPlace (AfterRule (Some 1) (codes "c"))) (block_lines (codes "c: d\n\tcp $< $@")))) ∷ []) ∷ on_line 20 (Apply (AddLine (BeforeRule None (codes "c")) (NewAssign (codes "CC") Conditional (codes "\\#")))) ∷ on_line 21 (Apply (EachLine (ChangeEach (codes "CC") (edits.Substitute (codes "\\#") [])))) ∷ on_line 22 (Apply (ChangePrereqs None (codes "d") (ReplacePrereq (codes "b") (codes "$(s\\)")))) ∷ on_line 23 (Apply (ExchangeLines (OfRun (Some 1) (block_lines (codes "c d: a $(w a) $(s\\)"))) (block_lines (codes "\t# n\n\tababa aaa")))) ∷ [])) ∷  -- further-run-192
    (codes "nth 2 \"line-remove\" \"define D\"\nrule bottom ${c} :: $x\n", Ok (on_line 1 (Apply (ExchangeLines (OfRun (Some 2) (block_lines (codes "define D"))) [])) ∷ on_line 2 (Apply (AddLine Bottom (NewRule (codes "${c}") Double (codes "$x")))) ∷ [])) ∷  -- further-run-193
    (codes "recipe-remove a t\r\nend\r\nbegin\r\n", Ok (on_line 1 (Apply (RemoveLines (OfRecipe None (codes "a") (ByText (codes "t"))))) ∷ on_line 2 End ∷ on_line 3 Begin ∷ [])) ∷  -- further-run-194
    (codes "add X -g\n\n or nth 0 uncomment a.b\n\nor  depend  ${g(}  ${c}\n\nor \"line-replace\" <<O1 <<X\n  # a.b += x \\\n  y\nO1\nifneq (x,)\n  # a.b += x \\\n  y\nendif\nX\n \"assign\" top X = \"\"", Ok (Chain (edit_on 1 (ChangeValue (One None) (codes "X") (edits.Add (codes "-g")))) (edit_on 3 (SwitchLine Uncomment (Some 0) (codes "a.b"))) ((edit_on 5 (ChangePrereqs None (codes "${g(}") (AddPrereq false (codes "${c}")))) ∷ (edit_on 7 (ExchangeLines (OfRun None (block_lines (codes "  # a.b += x \\\n  y"))) (block_lines (codes "ifneq (x,)\n  # a.b += x \\\n  y\nendif")))) ∷ []) ∷ on_line 16 (Apply (AddLine Top (NewAssign (codes "X") Recursive []))) ∷ [])) ∷  -- further-run-195
    (codes " \"subst\" F \"  \" yy\n all\tset\tF\t\"$(A -g) -g\"\nrecipe-replace c \">a\" \"# n\"\n \"or\"\tnth\t4294967295\tadd-before\tF\t\"$(A -g)\"\tx.c\nor line-replace <<O1 <<EOF\nX = 1\nzz\nO1\nF = aaa aaaa # aa\nendef\nEOF\nor  add-before  F  \"$(A -g)\"  \"-O3\"\n\"all\" operator F :=\nset-if F <<E a\nrule-remove q\n# c\nor\tall\tset-if\t\"F\"\t\"$(A -g) -g\"\t\"; x=1\"\ntry\t\"nth\"\t1\tassign\tbefore-rule\t\"c\"\tX\t!=\tx=1\ninsert before-var F <<X\nc: d\n\tcp $< $@\nX\n\"or\" \"insert\" \"top\" <<EOF\nF = aaa aaaa # aa\nendef\n-include b.mk\nEOF\n\"try\" recipe-insert a 1 \"ifdef Q\"\n", Ok (on_line 1 (Apply (ChangeLine None (codes "F") (edits.Substitute (codes "  ") (codes "yy")))) ∷ on_line 2 (Apply (ChangeValue Every (codes "F") (edits.Set (codes "$(A -g) -g")))) ∷ Chain (edit_on 3 (SetRecipe None (codes "c") (ByText (codes ">a")) (codes "# n"))) (edit_on 4 (ChangeLine (Some 4294967295) (codes "F") (edits.InsertWord Before (codes "$(A -g)") (codes "x.c")))) ((edit_on 5 (ExchangeLines (OfRun None (block_lines (codes "X = 1\nzz"))) (block_lines (codes "F = aaa aaaa # aa\nendef")))) ∷ (edit_on 12 (ChangeLine None (codes "F") (edits.InsertWord Before (codes "$(A -g)") (codes "-O3")))) ∷ []) ∷ on_line 13 (Apply (EachLine (ChangeEach (codes "F") (edits.SetOperator Simple)))) ∷ on_line 14 (Apply (ChangeValue (One None) (codes "F") (edits.SetIf (codes "<<E") (codes "a")))) ∷ Chain (edit_on 15 (ExchangeLines (OfRuleRun None (codes "q")) [])) (edit_on 17 (ChangeValue Every (codes "F") (edits.SetIf (codes "$(A -g) -g") (codes "; x=1")))) [] ∷ tried_on 18 (AddLine (BeforeRule (Some 1) (codes "c")) (NewAssign (codes "X") Shell (codes "x=1"))) ∷ Chain (edit_on 19 (ExchangeLines (AtPlace (BeforeVar None (codes "F"))) (block_lines (codes "c: d\n\tcp $< $@")))) (edit_on 23 (ExchangeLines (AtPlace Top) (block_lines (codes "F = aaa aaaa # aa\nendef\n-include b.mk")))) [] ∷ tried_on 28 (AddRecipe None (codes "a") (At 1) (codes "ifdef Q")) ∷ [])) ∷  -- further-run-196
    (codes "\"try\" add X \"$(a b)\"\r\nnth  001  line-replace  \"include a.mk\"  \"include b.mk\"\r\n\"rule\" after-rule c \"d\" :: a\r\nrecipe-insert c 0 t\r\n\"line-remove\" <<X\r\ninclude b.mk\r\na: b\r\nX\r\ntry \"insert\" after-rule c <<EOF\r\nF = a \\\r\n  b\r\nEOF", Ok (tried_on 1 (ChangeValue (One None) (codes "X") (edits.Add (codes "$(a b)"))) ∷ on_line 2 (Apply (ExchangeLines (OfRun (Some 1) (block_lines (codes "include a.mk"))) (block_lines (codes "include b.mk")))) ∷ on_line 3 (Apply (AddLine (AfterRule None (codes "c")) (NewRule (codes "d") Double (codes "a")))) ∷ on_line 4 (Apply (AddRecipe None (codes "c") (At 0) (codes "t"))) ∷ on_line 5 (Apply (ExchangeLines (OfRun None (block_lines (codes "include b.mk\na: b"))) [])) ∷ tried_on 9 (ExchangeLines (AtPlace (AfterRule None (codes "c"))) (block_lines (codes "F = a \\\n  b"))) ∷ [])) ∷  -- further-run-197
    (codes "recipe-insert\ti\t1\t\"# n\"\nundo\n\"nth\" 000 \"set-if\" F \"aaa aaaa\" \"\"", Ok (on_line 1 (Apply (AddRecipe None (codes "i") (At 1) (codes "# n"))) ∷ on_line 2 Undo ∷ on_line 3 (Apply (ChangeValue (One (Some 0)) (codes "F") (edits.SetIf (codes "aaa aaaa") []))) ∷ [])) ∷  -- further-run-198
    (codes "begin\nundo\n", Ok (on_line 1 Begin ∷ on_line 2 Undo ∷ [])) ∷  -- further-run-199
    (codes "\"try\" values-subst \";\" \" \"\nundo\nredo\n", Ok (tried_on 1 (EachLine (SubstValues (codes ";") (codes " "))) ∷ on_line 2 Undo ∷ on_line 3 Redo ∷ [])) ∷  -- further-run-200
    (codes "nth 1 append \"F\" -g\n unrule \"c\"\nredo\nvalues-subst a \"\"\nall  subst  \"F\"  \" \"  $$\nundo\n", Ok (on_line 1 (Apply (ChangeValue (One (Some 1)) (codes "F") (edits.Append (codes "-g")))) ∷ on_line 2 (Apply (RemoveLines (OfRule None (codes "c")))) ∷ on_line 3 Redo ∷ on_line 4 (Apply (EachLine (SubstValues (codes "a") []))) ∷ on_line 5 (Apply (EachLine (ChangeEach (codes "F") (edits.Substitute (codes " ") (codes "$$"))))) ∷ on_line 6 Undo ∷ [])) ∷  -- further-run-201
    (codes "insert top \"<<E\"\nuncomment F\n line-replace  \"c: b& x.o x.o ; true\"  \"\"\nnth 2 \"rule-replace\" \"a\" <<end\na:\n# n\n\nend\n# c\n\"or\"\tnth\t001\trule-replace\t\"a\"\t<<9\na:\n\ttrue\n9\ninsert after-last-var F <<E\nG = 1\nE\n line-replace <<_ <<9\n\tcc -s x\n_\nelse\nF += a\n\tcc -s x\n9\n\"nth\" 1 subst G 1 x\ntry all prepend \"F\" ${c}\nline-remove <<X\nF += ${c} a\n\tcc -s x\nX\n", Ok (on_line 1 (Apply (ExchangeLines (AtPlace Top) (block_lines (codes "<<E")))) ∷ on_line 2 (Apply (SwitchLine Uncomment None (codes "F"))) ∷ on_line 3 (Apply (ExchangeLines (OfRun None (block_lines (codes "c: b& x.o x.o ; true"))) (block_lines []))) ∷ Chain (edit_on 4 (ExchangeLines (OfRuleRun (Some 2) (codes "a")) (block_lines (codes "a:\n# n\n")))) (edit_on 10 (ExchangeLines (OfRuleRun (Some 1) (codes "a")) (block_lines (codes "a:\n\ttrue")))) [] ∷ on_line 14 (Apply (ExchangeLines (AtPlace (AfterLastVar (codes "F"))) (block_lines (codes "G = 1")))) ∷ on_line 17 (Apply (ExchangeLines (OfRun None (block_lines (codes "\tcc -s x"))) (block_lines (codes "else\nF += a\n\tcc -s x")))) ∷ on_line 24 (Apply (ChangeLine (Some 1) (codes "G") (edits.Substitute (codes "1") (codes "x")))) ∷ tried_on 25 (EachLine (ChangeEach (codes "F") (edits.Prepend (codes "${c}")))) ∷ on_line 26 (Apply (ExchangeLines (OfRun None (block_lines (codes "F += ${c} a\n\tcc -s x"))) [])) ∷ [])) ∷  -- further-run-202
    (codes "nth 1 add F \\#\n", Ok (on_line 1 (Apply (ChangeValue (One (Some 1)) (codes "F") (edits.Add (codes "\\#")))) ∷ [])) ∷  -- further-run-203
    (codes "nth \"1\" operator F ::=\ndepend-replace  i  \"x.o\"  %.c\nset a.b \"\"\n \nor  nth  4294967295  drop  override  =\n\nor \"nth\" 4294967295 \"recipe-subst\" d \\ \"x\"\n or all append F \"$(t -g) \\\\\\\\a\"\ninsert after-last-var F <<E\nG = 1\nE\nnth \"1\" set F \"\"\n", Ok (on_line 1 (Apply (ChangeLine (Some 1) (codes "F") (edits.SetOperator PosixSimple))) ∷ on_line 2 (Apply (ChangePrereqs None (codes "i") (ReplacePrereq (codes "x.o") (codes "%.c")))) ∷ Chain (edit_on 3 (ChangeValue (One None) (codes "a.b") (edits.Set []))) (edit_on 5 (ChangeValue (One (Some 4294967295)) (codes "override") (edits.Remove (codes "=")))) ((edit_on 7 (EachLine (SubstRecipe (Some 4294967295) (codes "d") (codes "\\") (codes "x")))) ∷ (edit_on 8 (ChangeValue Every (codes "F") (edits.Append (codes "$(t -g) \\\\a")))) ∷ []) ∷ on_line 9 (Apply (ExchangeLines (AtPlace (AfterLastVar (codes "F"))) (block_lines (codes "G = 1")))) ∷ on_line 12 (Apply (ChangeValue (One (Some 1)) (codes "F") (edits.Set []))) ∷ [])) ∷  -- further-run-204
    []

answers_4 : map (λ row. read_script row.0) rows_4 ≡ map (λ row. row.1) rows_4
unfolding line_len lines_from
answers_4 = refl

abbrev rows_5 : List (List ℕ × Result (List Step) ℕ)
rows_5 =
    (codes "redo\nrecipe-remove\td\t\"true\"\n \nor assign after-last-var a.b t \":::=\" \"a b x$(a  b)\"\n\nor insert after-line \"\tdone\" <<end\nifdef A\nendif\nend\nor line-remove <<O1\ni:  | b\nO1\n line-replace <<_ <<O1\n\ta\n_\n# n\na: b\n  b\nO1\nundo\nnth 2 depend c t\nunset F\n# c\n\"or\"\tline-replace\t<<EOF\t<<_\nc d:  ; true\n\nEOF\ndefine W\nc d:  ; true\n\nendef\n_\n\"line-replace\"  endif  endif\nundo\n", Ok (on_line 1 Redo ∷ Chain (edit_on 2 (RemoveLines (OfRecipe None (codes "d") (ByText (codes "true"))))) (edit_on 4 (AddLine (AfterLastVar (codes "a.b")) (NewAssign (codes "t") Immediate (codes "a b x$(a  b)")))) ((edit_on 6 (ExchangeLines (AfterRun None (block_lines (codes "\tdone"))) (block_lines (codes "ifdef A\nendif")))) ∷ (edit_on 10 (ExchangeLines (OfRun None (block_lines (codes "i:  | b"))) [])) ∷ []) ∷ on_line 13 (Apply (ExchangeLines (OfRun None (block_lines (codes "\ta"))) (block_lines (codes "# n\na: b\n  b")))) ∷ on_line 20 Undo ∷ on_line 21 (Apply (ChangePrereqs (Some 2) (codes "c") (AddPrereq false (codes "t")))) ∷ Chain (edit_on 22 (RemoveLines (OfAssign None (codes "F")))) (edit_on 24 (ExchangeLines (OfRun None (block_lines (codes "c d:  ; true\n"))) (block_lines (codes "define W\nc d:  ; true\n\nendef")))) [] ∷ on_line 33 (Apply (ExchangeLines (OfRun None (block_lines (codes "endif"))) (block_lines (codes "endif")))) ∷ on_line 34 Undo ∷ [])) ∷  -- further-run-205
    (codes "line-replace \"a.b != b -g -g\" <<end\r\na.b != b -g -g\r\nendef\r\nend\r\nall set-if a.b \"b -g -g\" \"$\\\\x $ b\"\r\n values-subst \"$\\\\x\" -O3\r\nbegin\r\n try insert after-rule d <<O1\r\nx \\\r\n\r\nO1\r\ntry comment-out F\r\ntry \"rule\" after-rule c c :: \"a\"\r\n", Ok (on_line 1 (Apply (ExchangeLines (OfRun None (block_lines (codes "a.b != b -g -g"))) (block_lines (codes "a.b != b -g -g\nendef")))) ∷ on_line 5 (Apply (ChangeValue Every (codes "a.b") (edits.SetIf (codes "b -g -g") (codes "$\\x $ b")))) ∷ on_line 6 (Apply (EachLine (SubstValues (codes "$\\x") (codes "-O3")))) ∷ on_line 7 Begin ∷ tried_on 8 (ExchangeLines (AtPlace (AfterRule None (codes "d"))) (block_lines (codes "x \\\n"))) ∷ tried_on 12 (SwitchLine CommentOut None (codes "F")) ∷ tried_on 13 (AddLine (AfterRule None (codes "c")) (NewRule (codes "c") Double (codes "a"))) ∷ [])) ∷  -- further-run-206
    (codes " \"recipe-subst\"\tc\tcc\t$(y)\nassign bottom t ?= \"$(w a)\"\n\"nth\" \"1\" insert \"before-line\" <<E <<9\nifdef A\n\ta\nE\n# a \\\n b\n9\nnth \"001\" recipe-remove c \"$(y) -s x\"\nset-if t \"$(w a)\" \"= a\"\n", Ok (on_line 1 (Apply (EachLine (SubstRecipe None (codes "c") (codes "cc") (codes "$(y)")))) ∷ on_line 2 (Apply (AddLine Bottom (NewAssign (codes "t") Conditional (codes "$(w a)")))) ∷ on_line 3 (Apply (ExchangeLines (BeforeRun (Some 1) (block_lines (codes "ifdef A\n\ta"))) (block_lines (codes "# a \\\n b")))) ∷ on_line 10 (Apply (RemoveLines (OfRecipe (Some 1) (codes "c") (ByText (codes "$(y) -s x"))))) ∷ on_line 11 (Apply (ChangeValue (One None) (codes "t") (edits.SetIf (codes "$(w a)") (codes "= a")))) ∷ [])) ∷  -- further-run-207
    (codes "replace X \\\\ \"\\\\\\\\a a$ b\"\nall prepend \"X\" -g\nsubst X \" \\\\\\\\\" x\n\"line-replace\" \"\" <<E\nifdef A\n\nendif\nE\nall drop \"X\" \"-gx\"\nundo\nredo\n\"replace\" X $\\x ;\nnth\t000\tcomment-out\tX\ntry add-after \"X\" a \"$(new a)\"\n", Ok (on_line 1 (Apply (ChangeLine None (codes "X") (edits.ReplaceWord (codes "\\\\") (codes "\\\\a a$ b")))) ∷ on_line 2 (Apply (EachLine (ChangeEach (codes "X") (edits.Prepend (codes "-g"))))) ∷ on_line 3 (Apply (ChangeLine None (codes "X") (edits.Substitute (codes " \\\\") (codes "x")))) ∷ on_line 4 (Apply (ExchangeLines (OfRun None (block_lines [])) (block_lines (codes "ifdef A\n\nendif")))) ∷ on_line 9 (Apply (ChangeValue Every (codes "X") (edits.Remove (codes "-gx")))) ∷ on_line 10 Undo ∷ on_line 11 Redo ∷ on_line 12 (Apply (ChangeLine None (codes "X") (edits.ReplaceWord (codes "$\\x") (codes ";")))) ∷ on_line 13 (Apply (SwitchLine CommentOut (Some 0) (codes "X"))) ∷ tried_on 14 (ChangeLine None (codes "X") (edits.InsertWord After (codes "a") (codes "$(new a)"))) ∷ [])) ∷  -- further-run-208
    (codes "nth 1 assign after-last-var F X = 1\r\ninsert before-line <<E <<E\r\nX = 1\r\nE\r\n# x\r\nE\r\n\"all\"\tprepend\tF\t$\\x\r\nbegin\r\n\"try\"  nth  1  undepend  d  \"$$\"\r\nnth \"001\" set-if F \"$\\\\x -g\" b\r\nnth 003 set F \"\\\\foo $(q:;=|)\"\r\n", Err 1) ∷  -- further-run-209
    (codes "nth  1  add-before  override  \"$(a\tb)\"  $x\n", Ok (on_line 1 (Apply (ChangeLine (Some 1) (codes "override") (edits.InsertWord Before (codes "$(a\tb)") (codes "$x")))) ∷ [])) ∷  -- further-run-210
    (codes "insert top <<E\nE \n\tE\nE\ndepend-replace d a x.o\nuncomment\tX\ntry nth 1 rule-remove c\nadd-after X \"s\" \"$(new a)\"\n", Ok (on_line 1 (Apply (ExchangeLines (AtPlace Top) (block_lines (codes "E \n\tE")))) ∷ on_line 5 (Apply (ChangePrereqs None (codes "d") (ReplacePrereq (codes "a") (codes "x.o")))) ∷ on_line 6 (Apply (SwitchLine Uncomment None (codes "X"))) ∷ tried_on 7 (ExchangeLines (OfRuleRun (Some 1) (codes "c")) []) ∷ on_line 8 (Apply (ChangeLine None (codes "X") (edits.InsertWord After (codes "s") (codes "$(new a)")))) ∷ [])) ∷  -- further-run-211
    (codes "insert after-last-var \"F\" <<E\n\n\nE\n\"all\" \"subst\" F b x\nor \"depend-replace\" \"c\" \"$(f {)\" %.o\nor nth 2 prepend \"F\" -g\n or  \"insert\"  \"bottom\"  \"\t# n\"\nnth 2 subst F a \"\"\nnth 2 \"add\" F a\ntry\tdepend-order\t\"c\"\ta\ntry  assign  top  F  :=  \"; |\"\n", Ok (on_line 1 (Apply (ExchangeLines (AtPlace (AfterLastVar (codes "F"))) (block_lines (codes "\n")))) ∷ Chain (edit_on 5 (EachLine (ChangeEach (codes "F") (edits.Substitute (codes "b") (codes "x"))))) (edit_on 6 (ChangePrereqs None (codes "c") (ReplacePrereq (codes "$(f {)") (codes "%.o")))) ((edit_on 7 (ChangeLine (Some 2) (codes "F") (edits.Prepend (codes "-g")))) ∷ (edit_on 8 (ExchangeLines (AtPlace Bottom) (block_lines (codes "\t# n")))) ∷ []) ∷ on_line 9 (Apply (ChangeLine (Some 2) (codes "F") (edits.Substitute (codes "a") []))) ∷ on_line 10 (Apply (ChangeValue (One (Some 2)) (codes "F") (edits.Add (codes "a")))) ∷ tried_on 11 (ChangePrereqs None (codes "c") (AddPrereq true (codes "a"))) ∷ tried_on 12 (AddLine Top (NewAssign (codes "F") Simple (codes "; |"))) ∷ [])) ∷  -- further-run-212
    (codes "begin\nrule-replace \"a\" <<EOF\ndefine W\na: b ; true\nendef\nEOF\n all operator F \":::=\"\nprepend F \"x=1 $(s (b) a)\"\ntry set-if F \"x=1 $(s (b) a) \\\\ b -g a $(a b)\" -O2\ndrop \"F\" -O2\ncomment-out \"F\"\ninsert top \".RECIPEPREFIX = F\"\ntry nth \"1\" add-after F -g \"x.c\"\n\"uncomment\"\t\"F\"\n", Ok (on_line 1 Begin ∷ on_line 2 (Apply (ExchangeLines (OfRuleRun None (codes "a")) (block_lines (codes "define W\na: b ; true\nendef")))) ∷ on_line 7 (Apply (EachLine (ChangeEach (codes "F") (edits.SetOperator Immediate)))) ∷ on_line 8 (Apply (ChangeLine None (codes "F") (edits.Prepend (codes "x=1 $(s (b) a)")))) ∷ tried_on 9 (ChangeValue (One None) (codes "F") (edits.SetIf (codes "x=1 $(s (b) a) \\ b -g a $(a b)") (codes "-O2"))) ∷ on_line 10 (Apply (ChangeValue (One None) (codes "F") (edits.Remove (codes "-O2")))) ∷ on_line 11 (Apply (SwitchLine CommentOut None (codes "F"))) ∷ on_line 12 (Apply (ExchangeLines (AtPlace Top) (block_lines (codes ".RECIPEPREFIX = F")))) ∷ tried_on 13 (ChangeLine (Some 1) (codes "F") (edits.InsertWord After (codes "-g") (codes "x.c"))) ∷ on_line 14 (Apply (SwitchLine Uncomment None (codes "F"))) ∷ [])) ∷  -- further-run-213
    (codes "\"nth\" \"4\" subst X a \"\"\nrecipe-remove c \"a\"\nrule-replace i <<_\nifdef A\nX = 1\nendif\n_\n", Ok (on_line 1 (Apply (ChangeLine (Some 4) (codes "X") (edits.Substitute (codes "a") []))) ∷ on_line 2 (Apply (RemoveLines (OfRecipe None (codes "c") (ByText (codes "a"))))) ∷ on_line 3 (Apply (ExchangeLines (OfRuleRun None (codes "i")) (block_lines (codes "ifdef A\nX = 1\nendif")))) ∷ [])) ∷  -- further-run-214
    (codes "add-after X \"1\" 1\nor add-after \"X\" \"1\" \"$(new a)\"\ntry  nth  002  \"depend-replace\"  c  \"$(p #)\"  $(q:;=|)\n unset \"F\"\nor \"nth\" 000 \"subst\" \"X\" 1 \"\"", Ok (Chain (edit_on 1 (ChangeLine None (codes "X") (edits.InsertWord After (codes "1") (codes "1")))) (edit_on 2 (ChangeLine None (codes "X") (edits.InsertWord After (codes "1") (codes "$(new a)")))) [] ∷ tried_on 3 (ChangePrereqs (Some 2) (codes "c") (ReplacePrereq (codes "$(p #)") (codes "$(q:;=|)"))) ∷ Chain (edit_on 4 (RemoveLines (OfAssign None (codes "F")))) (edit_on 5 (ChangeLine (Some 0) (codes "X") (edits.Substitute (codes "1") []))) [] ∷ [])) ∷  -- further-run-215
    (codes "try operator \"X\" :=\nline-remove\t<<end\na.b=-g\n#X ?= $(x) # n\nend\ntry \"drop\" a.b -g\nrecipe-replace\tc\t\" a\"\ttrue\n or \"uncomment\" Q\n\"or\" set-if a.b \"\" $x\nset-if \"a.b\" $x \"\"\nsubst  \"override\"  zz  x=1\n\"or\" \"nth\" \"0\" \"subst\" X | $(y)\n# c\nor \"add\" X a\n \nor line-replace \"a.b += \" <<E\nifdef A\na.b += \nendif\nE\n insert after-rule c <<O1\nX = 1\n\nO1\n \nor line-remove <<X\noverride X\\\n:= -g a \\\n    b |\nX\n set-if a.b \"\" \"\"\nnth 1 line-replace \"a.b += \" \"\"", Ok (tried_on 1 (ChangeLine None (codes "X") (edits.SetOperator Simple)) ∷ on_line 2 (Apply (ExchangeLines (OfRun None (block_lines (codes "a.b=-g\n#X ?= $(x) # n"))) [])) ∷ tried_on 6 (ChangeValue (One None) (codes "a.b") (edits.Remove (codes "-g"))) ∷ Chain (edit_on 7 (SetRecipe None (codes "c") (ByText (codes " a")) (codes "true"))) (edit_on 8 (SwitchLine Uncomment None (codes "Q"))) ((edit_on 9 (ChangeValue (One None) (codes "a.b") (edits.SetIf [] (codes "$x")))) ∷ []) ∷ on_line 10 (Apply (ChangeValue (One None) (codes "a.b") (edits.SetIf (codes "$x") []))) ∷ Chain (edit_on 11 (ChangeLine None (codes "override") (edits.Substitute (codes "zz") (codes "x=1")))) (edit_on 12 (ChangeLine (Some 0) (codes "X") (edits.Substitute (codes "|") (codes "$(y)")))) ((edit_on 14 (ChangeValue (One None) (codes "X") (edits.Add (codes "a")))) ∷ (edit_on 16 (ExchangeLines (OfRun None (block_lines (codes "a.b += "))) (block_lines (codes "ifdef A\na.b += \nendif")))) ∷ []) ∷ Chain (edit_on 21 (ExchangeLines (AtPlace (AfterRule None (codes "c"))) (block_lines (codes "X = 1\n")))) (edit_on 26 (ExchangeLines (OfRun None (block_lines (codes "override X\\\n:= -g a \\\n    b |"))) [])) [] ∷ on_line 31 (Apply (ChangeValue (One None) (codes "a.b") (edits.SetIf [] []))) ∷ on_line 32 (Apply (ExchangeLines (OfRun (Some 1) (block_lines (codes "a.b += "))) (block_lines []))) ∷ [])) ∷  -- further-run-216
    (codes "\"try\" \"unset\" F\n\"try\" \"nth\" 2 rule-replace c <<E\nc:\n\ta \\\n\tb\nE\n\"try\"\trecipe-insert\tc\t4\tb\n \"depend-replace\"  \"c\"  \"b\"  \"a\"\nvalues-subst \"\\\\\" \"\"\n", Ok (tried_on 1 (RemoveLines (OfAssign None (codes "F"))) ∷ tried_on 2 (ExchangeLines (OfRuleRun (Some 2) (codes "c")) (block_lines (codes "c:\n\ta \\\n\tb"))) ∷ tried_on 7 (AddRecipe None (codes "c") (At 4) (codes "b")) ∷ on_line 8 (Apply (ChangePrereqs None (codes "c") (ReplacePrereq (codes "b") (codes "a")))) ∷ on_line 9 (Apply (EachLine (SubstValues (codes "\\") []))) ∷ [])) ∷  -- further-run-217
    (codes "recipe-insert d 1 \"a # b\"\noperator F \":=\"\nundo\nrule-remove  d\n# c\n\"or\"\trecipe-insert\td\t1\t>a\n", Ok (on_line 1 (Apply (AddRecipe None (codes "d") (At 1) (codes "a # b"))) ∷ on_line 2 (Apply (ChangeLine None (codes "F") (edits.SetOperator Simple))) ∷ on_line 3 Undo ∷ Chain (edit_on 4 (ExchangeLines (OfRuleRun None (codes "d")) [])) (edit_on 6 (AddRecipe None (codes "d") (At 1) (codes ">a"))) [] ∷ [])) ∷  -- further-run-218
    (codes "\"nth\" 1 add-before override a \"$(new a)\"\nvalues-subst \"$(new a)\" \"\"\nundo\n", Ok (on_line 1 (Apply (ChangeLine (Some 1) (codes "override") (edits.InsertWord Before (codes "a") (codes "$(new a)")))) ∷ on_line 2 (Apply (EachLine (SubstValues (codes "$(new a)") []))) ∷ on_line 3 Undo ∷ [])) ∷  -- further-run-219
    (codes "assign top X = 1\n \"nth\" 001 replace F -O2 \"-g\"\nundo\nvalues-subst \"cc\" \"\"\ntry line-remove <<E\nset X 1\nE\ntry operator override !=\ninsert top <<E!\n", Ok (on_line 1 (Apply (AddLine Top (NewAssign (codes "X") Recursive (codes "1")))) ∷ on_line 2 (Apply (ChangeLine (Some 1) (codes "F") (edits.ReplaceWord (codes "-O2") (codes "-g")))) ∷ on_line 3 Undo ∷ on_line 4 (Apply (EachLine (SubstValues (codes "cc") []))) ∷ tried_on 5 (ExchangeLines (OfRun None (block_lines (codes "set X 1"))) []) ∷ tried_on 8 (ChangeLine None (codes "override") (edits.SetOperator Shell)) ∷ on_line 9 (Apply (ExchangeLines (AtPlace Top) (block_lines (codes "<<E!")))) ∷ [])) ∷  -- further-run-220
    (codes "add F \"a\"\noperator X ::=\nnth\t1\tunset\t\"F\"\ntry all set \"X\" -O2\n", Ok (on_line 1 (Apply (ChangeValue (One None) (codes "F") (edits.Add (codes "a")))) ∷ on_line 2 (Apply (ChangeLine None (codes "X") (edits.SetOperator PosixSimple))) ∷ on_line 3 (Apply (RemoveLines (OfAssign (Some 1) (codes "F")))) ∷ tried_on 4 (ChangeValue Every (codes "X") (edits.Set (codes "-O2"))) ∷ [])) ∷  -- further-run-221
    (codes "try add \"F\" \"a\"\nline-remove <<O1\nF = -g\\\n a $$\nO1\nline-remove \"X= b\"\nnth 0 \"operator\" F \"!=\"\n", Ok (tried_on 1 (ChangeValue (One None) (codes "F") (edits.Add (codes "a"))) ∷ on_line 2 (Apply (ExchangeLines (OfRun None (block_lines (codes "F = -g\\\n a $$"))) [])) ∷ on_line 6 (Apply (ExchangeLines (OfRun None (block_lines (codes "X= b"))) [])) ∷ on_line 7 (Apply (ChangeLine (Some 0) (codes "F") (edits.SetOperator Shell))) ∷ [])) ∷  -- further-run-222
    (codes "line-remove <<E\nX = 1\nendef\nE\nbegin\nrecipes-subst\t\"a\"\t/usr\nend\nredo\ntry rule \"after-last-var\" \"F\" x.o :: \"\"\nline-replace  <<X  <<EOF\nendif\n\nX\n\tcc -s x\nX = 1\nEOF\n\"or\" nth 2 \"append\" F \"b\"\n \n\"or\" nth 0 line-replace <<E <<9\n\t/usr\nE\n /usr\n9\n\nor \"nth\" 001 line-remove <<X\noverride define X =\nX = 1\nX\nrecipe-insert\tc\t4294967295\t\"rm -rf x\"\nnth  4294967295  insert  after-rule  c  <<X\n-include b.mk\n#X = 1\nX\n\"or\" \"recipe-subst\" c \"b\" \"-O3\"\n", Ok (on_line 1 (Apply (ExchangeLines (OfRun None (block_lines (codes "X = 1\nendef"))) [])) ∷ on_line 5 Begin ∷ on_line 6 (Apply (EachLine (SubstRecipes (codes "a") (codes "/usr")))) ∷ on_line 7 End ∷ on_line 8 Redo ∷ tried_on 9 (AddLine (AfterLastVar (codes "F")) (NewRule (codes "x.o") Double [])) ∷ Chain (edit_on 10 (ExchangeLines (OfRun None (block_lines (codes "endif\n"))) (block_lines (codes "\tcc -s x\nX = 1")))) (edit_on 17 (ChangeValue (One (Some 2)) (codes "F") (edits.Append (codes "b")))) ((edit_on 19 (ExchangeLines (OfRun (Some 0) (block_lines (codes "\t/usr"))) (block_lines (codes " /usr")))) ∷ (edit_on 25 (ExchangeLines (OfRun (Some 1) (block_lines (codes "override define X =\nX = 1"))) [])) ∷ []) ∷ on_line 29 (Apply (AddRecipe None (codes "c") (At 4294967295) (codes "rm -rf x"))) ∷ Chain (edit_on 30 (ExchangeLines (AtPlace (AfterRule (Some 4294967295) (codes "c"))) (block_lines (codes "-include b.mk\n#X = 1")))) (edit_on 34 (EachLine (SubstRecipe None (codes "c") (codes "b") (codes "-O3")))) [] ∷ [])) ∷  -- further-run-223
    (codes "try nth 002 operator F ::=\n\"try\"  \"nth\"  4294967295  uncomment  F\nnth 2 set F c\n\"assign\" after-last-var F F ::= \"-g b\"\nundo\n", Ok (tried_on 1 (ChangeLine (Some 2) (codes "F") (edits.SetOperator PosixSimple)) ∷ tried_on 2 (SwitchLine Uncomment (Some 4294967295) (codes "F")) ∷ on_line 3 (Apply (ChangeValue (One (Some 2)) (codes "F") (edits.Set (codes "c")))) ∷ on_line 4 (Apply (AddLine (AfterLastVar (codes "F")) (NewAssign (codes "F") PosixSimple (codes "-g b")))) ∷ on_line 5 Undo ∷ [])) ∷  -- further-run-224
    (codes "nth \"4294967295\" line-replace <<E <<9\nF\\\n:=${c} $x a\\\n\t$(s (b) a)\\\n $ \nE\n.RECIPEPREFIX = >\nendef\n\tX = 1\n9\n \"or\" comment-out override\n# c\n\"or\"\tnth\t004\tadd-after\t\"X\"\tb\t\"$#\"\nset-if F <<E a\ninsert after-last-var F <<9\nc: d\n\tcp $< $@\n9\n all add F $\\x\nrecipe-subst\tc\tcp\t-O3\n\n or \"nth\" 002 recipe-del c 002\n nth 2 depend-replace c x.o \"x.o\"\n nth 1 \"subst\" F \"  \" x\nend\n\"try\"\t\"nth\"\t1\tappend\tF\t\"= \0\"\n nth 2 insert after-var \"X\" <<EOF\nX = 1\n\nEOF", Ok (Chain (edit_on 1 (ExchangeLines (OfRun (Some 4294967295) (block_lines (codes "F\\\n:=${c} $x a\\\n\t$(s (b) a)\\\n $ "))) (block_lines (codes ".RECIPEPREFIX = >\nendef\n\tX = 1")))) (edit_on 11 (SwitchLine CommentOut None (codes "override"))) ((edit_on 13 (ChangeLine (Some 4) (codes "X") (edits.InsertWord After (codes "b") (codes "$#")))) ∷ []) ∷ on_line 14 (Apply (ChangeValue (One None) (codes "F") (edits.SetIf (codes "<<E") (codes "a")))) ∷ on_line 15 (Apply (ExchangeLines (AtPlace (AfterLastVar (codes "F"))) (block_lines (codes "c: d\n\tcp $< $@")))) ∷ on_line 19 (Apply (ChangeValue Every (codes "F") (edits.Add (codes "$\\x")))) ∷ Chain (edit_on 20 (EachLine (SubstRecipe None (codes "c") (codes "cp") (codes "-O3")))) (edit_on 22 (RemoveLines (OfRecipe (Some 2) (codes "c") (ByNumber 2)))) [] ∷ on_line 23 (Apply (ChangePrereqs (Some 2) (codes "c") (ReplacePrereq (codes "x.o") (codes "x.o")))) ∷ on_line 24 (Apply (ChangeLine (Some 1) (codes "F") (edits.Substitute (codes "  ") (codes "x")))) ∷ on_line 25 End ∷ tried_on 26 (ChangeValue (One (Some 1)) (codes "F") (edits.Append (codes "= \0"))) ∷ on_line 27 (Apply (ExchangeLines (AtPlace (AfterVar (Some 2) (codes "X"))) (block_lines (codes "X = 1\n")))) ∷ [])) ∷  -- further-run-225
    (codes "begin\n\"set-if\" F \"-O2 a$ b a:b b\" \"\"\ntry \"nth\" 4294967295 add-after \"X\" 1 \"x.c\"\ntry \"nth\" 1 assign after-rule c t ::= =\n \"add-before\" X 1 \"$(new a)\"\n\"values-subst\" \"$(new a)\" -O3\ntry comment-out \"X\"\n\"try\" \"replace\" \"t\" = \"a -g\"", Ok (on_line 1 Begin ∷ on_line 2 (Apply (ChangeValue (One None) (codes "F") (edits.SetIf (codes "-O2 a$ b a:b b") []))) ∷ tried_on 3 (ChangeLine (Some 4294967295) (codes "X") (edits.InsertWord After (codes "1") (codes "x.c"))) ∷ tried_on 4 (AddLine (AfterRule (Some 1) (codes "c")) (NewAssign (codes "t") PosixSimple (codes "="))) ∷ on_line 5 (Apply (ChangeLine None (codes "X") (edits.InsertWord Before (codes "1") (codes "$(new a)")))) ∷ on_line 6 (Apply (EachLine (SubstValues (codes "$(new a)") (codes "-O3")))) ∷ tried_on 7 (SwitchLine CommentOut None (codes "X")) ∷ tried_on 8 (ChangeLine None (codes "t") (edits.ReplaceWord (codes "=") (codes "a -g"))) ∷ [])) ∷  -- further-run-226
    (codes "try recipe-remove d a\ncomment-out .RECIPEPREFIX\ninsert after-rule c <<_\n.RECIPEPREFIX = >\na\r\n_\n\nor line-replace <<end <<E\nzz\nend\noverride define E\n\nE\n\"or\" \"all\" subst F - \"\"\n\"nth\" 0 line-remove <<9\nF ?= ; g |#\nexport F = g x=1\\\n\\\ng# \\\n d\n9\nvalues-subst\t|\t#\n\"nth\"  2  add  F  x=1\n\"try\" drop F g\nrule bottom \"d\" : \"a\"\nnth 001 drop F x=1\nrecipe-subst  d  a  /usr\n \nor rule top c : \"a b\"\n", Ok (tried_on 1 (RemoveLines (OfRecipe None (codes "d") (ByText (codes "a")))) ∷ on_line 2 (Apply (SwitchLine CommentOut None (codes ".RECIPEPREFIX"))) ∷ Chain (edit_on 3 (ExchangeLines (AtPlace (AfterRule None (codes "c"))) (block_lines (codes ".RECIPEPREFIX = >\na")))) (edit_on 8 (ExchangeLines (OfRun None (block_lines (codes "zz"))) (block_lines (codes "override define E\n")))) ((edit_on 14 (EachLine (ChangeEach (codes "F") (edits.Substitute (codes "-") [])))) ∷ []) ∷ on_line 15 (Apply (ExchangeLines (OfRun (Some 0) (block_lines (codes "F ?= ; g |#\nexport F = g x=1\\\n\\\ng# \\\n d"))) [])) ∷ on_line 22 (Apply (EachLine (SubstValues (codes "|") (codes "#")))) ∷ on_line 23 (Apply (ChangeValue (One (Some 2)) (codes "F") (edits.Add (codes "x=1")))) ∷ tried_on 24 (ChangeValue (One None) (codes "F") (edits.Remove (codes "g"))) ∷ on_line 25 (Apply (AddLine Bottom (NewRule (codes "d") Single (codes "a")))) ∷ on_line 26 (Apply (ChangeValue (One (Some 1)) (codes "F") (edits.Remove (codes "x=1")))) ∷ Chain (edit_on 27 (EachLine (SubstRecipe None (codes "d") (codes "a") (codes "/usr")))) (edit_on 29 (AddLine Top (NewRule (codes "c") Single (codes "a b")))) [] ∷ [])) ∷  -- further-run-227
    (codes "depend-replace \"c\" %.o c\n\"or\" add F ${c}\n \nor add-before \"override\" ${c} -lz\n\n\"or\" rule-replace c <<O1\nc:\n\ta \\\n\tb\nO1\ninsert before-line <<_ <<E\n\tfor f in x; do \\\n\t  cc $$f; \\\n\tdone\n\tcc -s y; cc -s z\n_\n$(call t,x)\nF = -g\nE", Ok (Chain (edit_on 1 (ChangePrereqs None (codes "c") (ReplacePrereq (codes "%.o") (codes "c")))) (edit_on 2 (ChangeValue (One None) (codes "F") (edits.Add (codes "${c}")))) ((edit_on 4 (ChangeLine None (codes "override") (edits.InsertWord Before (codes "${c}") (codes "-lz")))) ∷ (edit_on 6 (ExchangeLines (OfRuleRun None (codes "c")) (block_lines (codes "c:\n\ta \\\n\tb")))) ∷ []) ∷ on_line 11 (Apply (ExchangeLines (BeforeRun None (block_lines (codes "\tfor f in x; do \\\n\t  cc $$f; \\\n\tdone\n\tcc -s y; cc -s z"))) (block_lines (codes "$(call t,x)\nF = -g")))) ∷ [])) ∷  -- further-run-228
    (codes "all \"replace\" X 1 \"$(A -g) $ b\"\n \"try\"  all  replace  X  \"$ b\"  \"-O2 a$ b\"\ninsert bottom <<O1\nX = 1\n\nO1\n insert top <<_\n# a \\\n b\n_\nrule bottom c : a\nnth 001 depend-replace c x.o \"$(p #)\"\n", Ok (on_line 1 (Apply (EachLine (ChangeEach (codes "X") (edits.ReplaceWord (codes "1") (codes "$(A -g) $ b"))))) ∷ tried_on 2 (EachLine (ChangeEach (codes "X") (edits.ReplaceWord (codes "$ b") (codes "-O2 a$ b")))) ∷ on_line 3 (Apply (ExchangeLines (AtPlace Bottom) (block_lines (codes "X = 1\n")))) ∷ on_line 7 (Apply (ExchangeLines (AtPlace Top) (block_lines (codes "# a \\\n b")))) ∷ on_line 11 (Apply (AddLine Bottom (NewRule (codes "c") Single (codes "a")))) ∷ on_line 12 (Apply (ChangePrereqs (Some 1) (codes "c") (ReplacePrereq (codes "x.o") (codes "$(p #)")))) ∷ [])) ∷  -- further-run-229
    (codes "all append \"override\" \"a \\\\#\"\r\nreplace \"override\" \\# \"b x=1\"\r\n", Ok (on_line 1 (Apply (ChangeValue Every (codes "override") (edits.Append (codes "a \\#")))) ∷ on_line 2 (Apply (ChangeLine None (codes "override") (edits.ReplaceWord (codes "\\#") (codes "b x=1")))) ∷ [])) ∷  -- further-run-230
    (codes "set-if F <<E a\ntry all \"set-if\" F \"$(A -g) x=1\" \"\"", Ok (on_line 1 (Apply (ChangeValue (One None) (codes "F") (edits.SetIf (codes "<<E") (codes "a")))) ∷ tried_on 2 (ChangeValue Every (codes "F") (edits.SetIf (codes "$(A -g) x=1") [])) ∷ [])) ∷  -- further-run-231
    (codes "\"rule\" after-var \"X\" c : \"\"\nnth 2 unset F\ntry \"set-if\" \"F\" \"b -g\" \"a b\"", Ok (on_line 1 (Apply (AddLine (AfterVar None (codes "X")) (NewRule (codes "c") Single []))) ∷ on_line 2 (Apply (RemoveLines (OfAssign (Some 2) (codes "F")))) ∷ tried_on 3 (ChangeValue (One None) (codes "F") (edits.SetIf (codes "b -g") (codes "a b"))) ∷ [])) ∷  -- further-run-232
    (codes "line-replace\t\"c: a\"\t<<_\nx \\\n\n_\nassign after-rule \"d\" F := \"$(t -g)\"\n# c\nor line-replace <<_ <<9\ndefine D\n_\nX = 1\n\tcc -s x\ndefine D\n9\ntry insert before-line \"define D\" \"\tababa aaa\"\nnth 1 append X c\nadd X \"$ b\"\n\"or\" insert top <<O1\n# a \\\n b\nO1\nundo", Ok (on_line 1 (Apply (ExchangeLines (OfRun None (block_lines (codes "c: a"))) (block_lines (codes "x \\\n")))) ∷ Chain (edit_on 5 (AddLine (AfterRule None (codes "d")) (NewAssign (codes "F") Simple (codes "$(t -g)")))) (edit_on 7 (ExchangeLines (OfRun None (block_lines (codes "define D"))) (block_lines (codes "X = 1\n\tcc -s x\ndefine D")))) [] ∷ tried_on 14 (ExchangeLines (BeforeRun None (block_lines (codes "define D"))) (block_lines (codes "\tababa aaa"))) ∷ on_line 15 (Apply (ChangeValue (One (Some 1)) (codes "X") (edits.Append (codes "c")))) ∷ Chain (edit_on 16 (ChangeValue (One None) (codes "X") (edits.Add (codes "$ b")))) (edit_on 17 (ExchangeLines (AtPlace Top) (block_lines (codes "# a \\\n b")))) [] ∷ on_line 21 Undo ∷ [])) ∷  -- further-run-233
    (codes "all replace \"F\" ; -g\ntry operator override :::=\nline-replace\t\"ifdef A\"\t<<_\nifneq (x,)\nifdef A\nendif\n_\n nth 1 \"line-replace\" <<E <<9\nifneq (x,)\nifdef A\nE\nifneq (x,)\nifdef A\nx\\\n# n\n9\n \nor uncomment F\n line-replace <<E <<_\nF = -g\nF += -g\n#F::=1\nE\nifneq (x,)\nF = -g\nF += -g\n#F::=1\nendif\n_\n\"nth\" \"2\" subst \"F\" \"g\" \"\"\ntry\t\"rule\"\tafter-rule\tx.o\tc\t::\t\"\"\nrecipe-remove x.o \"a # b\"\nor add-before a.b a -O3\nor  nth  000  rule-replace  c  <<end\n# n\nend\nor nth 1 replace F -g ${c}\nbegin\n", Ok (on_line 1 (Apply (EachLine (ChangeEach (codes "F") (edits.ReplaceWord (codes ";") (codes "-g"))))) ∷ tried_on 2 (ChangeLine None (codes "override") (edits.SetOperator Immediate)) ∷ on_line 3 (Apply (ExchangeLines (OfRun None (block_lines (codes "ifdef A"))) (block_lines (codes "ifneq (x,)\nifdef A\nendif")))) ∷ Chain (edit_on 8 (ExchangeLines (OfRun (Some 1) (block_lines (codes "ifneq (x,)\nifdef A"))) (block_lines (codes "ifneq (x,)\nifdef A\nx\\\n# n")))) (edit_on 18 (SwitchLine Uncomment None (codes "F"))) [] ∷ on_line 19 (Apply (ExchangeLines (OfRun None (block_lines (codes "F = -g\nF += -g\n#F::=1"))) (block_lines (codes "ifneq (x,)\nF = -g\nF += -g\n#F::=1\nendif")))) ∷ on_line 30 (Apply (ChangeLine (Some 2) (codes "F") (edits.Substitute (codes "g") []))) ∷ tried_on 31 (AddLine (AfterRule None (codes "x.o")) (NewRule (codes "c") Double [])) ∷ Chain (edit_on 32 (RemoveLines (OfRecipe None (codes "x.o") (ByText (codes "a # b"))))) (edit_on 33 (ChangeLine None (codes "a.b") (edits.InsertWord Before (codes "a") (codes "-O3")))) ((edit_on 34 (ExchangeLines (OfRuleRun (Some 0) (codes "c")) (block_lines (codes "# n")))) ∷ (edit_on 37 (ChangeLine (Some 1) (codes "F") (edits.ReplaceWord (codes "-g") (codes "${c}")))) ∷ []) ∷ on_line 38 Begin ∷ [])) ∷  -- further-run-234
    (codes "try rule bottom x.o : \"\"\n\"recipe-insert\" d 2 a\n", Ok (tried_on 1 (AddLine Bottom (NewRule (codes "x.o") Single [])) ∷ on_line 2 (Apply (AddRecipe None (codes "d") (At 2) (codes "a"))) ∷ [])) ∷  -- further-run-235
    (codes "redo\r\ntry \"nth\" 0 depend-order c a\r\nrule-remove  x.o\r\n", Ok (on_line 1 Redo ∷ tried_on 2 (ChangePrereqs (Some 0) (codes "c") (AddPrereq true (codes "a"))) ∷ on_line 3 (Apply (ExchangeLines (OfRuleRun None (codes "x.o")) [])) ∷ [])) ∷  -- further-run-236
    (codes "\"nth\"  2  add-after  \"F\"  b  x.c\nvalues-subst x.c ab\nundo\n", Ok (on_line 1 (Apply (ChangeLine (Some 2) (codes "F") (edits.InsertWord After (codes "b") (codes "x.c")))) ∷ on_line 2 (Apply (EachLine (SubstValues (codes "x.c") (codes "ab")))) ∷ on_line 3 Undo ∷ [])) ∷  -- further-run-237
    (codes "try \"nth\" 2 unset F\nend\n\"add\"  F  a\nor values-subst 1 ab\n", Ok (tried_on 1 (RemoveLines (OfAssign (Some 2) (codes "F"))) ∷ on_line 2 End ∷ Chain (edit_on 3 (ChangeValue (One None) (codes "F") (edits.Add (codes "a")))) (edit_on 4 (EachLine (SubstValues (codes "1") (codes "ab")))) [] ∷ [])) ∷  -- further-run-238
    (codes "\"unrule\" a\n", Ok (on_line 1 (Apply (RemoveLines (OfRule None (codes "a")))) ∷ [])) ∷  -- further-run-239
    (codes "nth  1  recipe-replace  i  true  t\n# c\nor  recipe-subst  c  \" \"  #\nunset F\nrecipe-subst  d  \"a\"  /usr\n \"nth\" 2 line-replace <<X <<EOF\nendef\nX\nendef\nendef\ni: x.o a a | b\nEOF\nrecipe-insert c 1 \"rm -f x\"\n\"recipe-insert\" i \"1\" b\nline-remove \"\tdone\"\nline-replace \"define D\" <<9\nvpath %.c a\n\t  cc $$f; \\\n9\n insert before-line \"\" <<X\ndefine D\n\nX\n \nor recipes-subst \"cc\" -O3\n \n\"or\" rule-replace i <<9\ni:\n\tcc -o $@ $<\n\ttrue\n9", Ok (Chain (edit_on 1 (SetRecipe (Some 1) (codes "i") (ByText (codes "true")) (codes "t"))) (edit_on 3 (EachLine (SubstRecipe None (codes "c") (codes " ") (codes "#")))) [] ∷ on_line 4 (Apply (RemoveLines (OfAssign None (codes "F")))) ∷ on_line 5 (Apply (EachLine (SubstRecipe None (codes "d") (codes "a") (codes "/usr")))) ∷ on_line 6 (Apply (ExchangeLines (OfRun (Some 2) (block_lines (codes "endef"))) (block_lines (codes "endef\nendef\ni: x.o a a | b")))) ∷ on_line 13 (Apply (AddRecipe None (codes "c") (At 1) (codes "rm -f x"))) ∷ on_line 14 (Apply (AddRecipe None (codes "i") (At 1) (codes "b"))) ∷ on_line 15 (Apply (ExchangeLines (OfRun None (block_lines (codes "\tdone"))) [])) ∷ on_line 16 (Apply (ExchangeLines (OfRun None (block_lines (codes "define D"))) (block_lines (codes "vpath %.c a\n\t  cc $$f; \\")))) ∷ Chain (edit_on 20 (ExchangeLines (BeforeRun None (block_lines [])) (block_lines (codes "define D\n")))) (edit_on 25 (EachLine (SubstRecipes (codes "cc") (codes "-O3")))) ((edit_on 27 (ExchangeLines (OfRuleRun None (codes "i")) (block_lines (codes "i:\n\tcc -o $@ $<\n\ttrue")))) ∷ []) ∷ [])) ∷  -- further-run-240
    (codes " nth 000 rule-remove c\n\"or\" \"nth\" 1 \"line-remove\" <<end\na: b\n# n\nend\nrule-replace \"c\" <<end\nc: x.o b\\\n x.o\n true\n cc -s \\\n>y\n cc -s \\\n>y\nend\ntry nth 2 line-replace <<E <<_\n cc -s \\\n>y\nE\n cc -s \\\n>y\na.b= a:b -g -g\n_\nundo\nnth \"0\" \"drop\" a.b \"$(s (b) a)\"\nnth 2 \"insert\" before-line <<EOF <<end\n\tcc -s \\\n>y\nEOF\n\tcc -s x\nX = 1\nend\nnth  2  subst  a.b  zz  ab\n\"or\" replace a.b -g a\n# c\nor  \"recipe-subst\"  c  \\  \"a b\"\n try all \"prepend\" a.b b\n", Ok (Chain (edit_on 1 (ExchangeLines (OfRuleRun (Some 0) (codes "c")) [])) (edit_on 2 (ExchangeLines (OfRun (Some 1) (block_lines (codes "a: b\n# n"))) [])) [] ∷ on_line 6 (Apply (ExchangeLines (OfRuleRun None (codes "c")) (block_lines (codes "c: x.o b\\\n x.o\n true\n cc -s \\\n>y\n cc -s \\\n>y")))) ∷ tried_on 15 (ExchangeLines (OfRun (Some 2) (block_lines (codes " cc -s \\\n>y"))) (block_lines (codes " cc -s \\\n>y\na.b= a:b -g -g"))) ∷ on_line 23 Undo ∷ on_line 24 (Apply (ChangeValue (One (Some 0)) (codes "a.b") (edits.Remove (codes "$(s (b) a)")))) ∷ on_line 25 (Apply (ExchangeLines (BeforeRun (Some 2) (block_lines (codes "\tcc -s \\\n>y"))) (block_lines (codes "\tcc -s x\nX = 1")))) ∷ Chain (edit_on 32 (ChangeLine (Some 2) (codes "a.b") (edits.Substitute (codes "zz") (codes "ab")))) (edit_on 33 (ChangeLine None (codes "a.b") (edits.ReplaceWord (codes "-g") (codes "a")))) ((edit_on 35 (EachLine (SubstRecipe None (codes "c") (codes "\\") (codes "a b")))) ∷ []) ∷ tried_on 36 (EachLine (ChangeEach (codes "a.b") (edits.Prepend (codes "b")))) ∷ [])) ∷  -- further-run-241
    (codes "redo\nnth 001 add-after F F -lz\n \"nth\" 1 drop F -g\n", Ok (on_line 1 Redo ∷ on_line 2 (Apply (ChangeLine (Some 1) (codes "F") (edits.InsertWord After (codes "F") (codes "-lz")))) ∷ on_line 3 (Apply (ChangeValue (One (Some 1)) (codes "F") (edits.Remove (codes "-g")))) ∷ [])) ∷  -- further-run-242
    (codes "\"insert\"\t\"before-var\"\tF\t<<_\n# a \\\n b\n_\nadd-after override | \"-O3\"\nline-replace <<X <<9\nF\\\n= b\\\n -g \\\na\\ \\\n-O2 \\## a \\\\\n# \\\n n\nX\n\tfor f in x; do \\\n\na\\b: c\n9\nall insert top x\nadd-before F -g -lz\n", Err 19) ∷  -- further-run-243
    (codes "try nth 1 rule-remove c\ndepend-replace d b& a\n", Ok (tried_on 1 (ExchangeLines (OfRuleRun (Some 1) (codes "c")) []) ∷ on_line 2 (Apply (ChangePrereqs None (codes "d") (ReplacePrereq (codes "b&") (codes "a")))) ∷ [])) ∷  -- further-run-244
    (codes "nth \"2\" add \"X\" \"$ b\"\ndrop override a\n\nor line-replace <<end <<X\nX= b $\\\n\nF = -g\\\n\t$  # \\\n d\nend\nifdef A\nX= b $\\\n\nF = -g\\\n\t$  # \\\n d\nendif\nX\n\"line-replace\" \"a: b\" <<EOF\n\tdone\n#X = 1\n\tdone\nEOF\nnth 002 subst X \\ \\\\\n\nor\t\"nth\"\t1\t\"uncomment\"\tX\nor recipe-remove c true\nor  \"nth\"  2  add-after  X  \"$ b\"  x.c\ntry \"insert\" before-rule c <<_\nifdef A\n\tx\nelse\n\ty\nendif\n_\n", Ok (on_line 1 (Apply (ChangeValue (One (Some 2)) (codes "X") (edits.Add (codes "$ b")))) ∷ Chain (edit_on 2 (ChangeValue (One None) (codes "override") (edits.Remove (codes "a")))) (edit_on 4 (ExchangeLines (OfRun None (block_lines (codes "X= b $\\\n\nF = -g\\\n\t$  # \\\n d"))) (block_lines (codes "ifdef A\nX= b $\\\n\nF = -g\\\n\t$  # \\\n d\nendif")))) [] ∷ on_line 19 (Apply (ExchangeLines (OfRun None (block_lines (codes "a: b"))) (block_lines (codes "\tdone\n#X = 1\n\tdone")))) ∷ Chain (edit_on 24 (ChangeLine (Some 2) (codes "X") (edits.Substitute (codes "\\") (codes "\\\\")))) (edit_on 26 (SwitchLine Uncomment (Some 1) (codes "X"))) ((edit_on 27 (RemoveLines (OfRecipe None (codes "c") (ByText (codes "true"))))) ∷ (edit_on 28 (ChangeLine (Some 2) (codes "X") (edits.InsertWord After (codes "$ b") (codes "x.c")))) ∷ []) ∷ tried_on 29 (ExchangeLines (AtPlace (BeforeRule None (codes "c"))) (block_lines (codes "ifdef A\n\tx\nelse\n\ty\nendif"))) ∷ [])) ∷  -- further-run-245
    (codes "insert \"after-var\" F <<O1\nc: d\n\tcp $< $@\nO1\nor line-remove endif\nline-replace\t<<X\t<<E\nifdef A\nX\na:\nifdef A\nendif\nE\n\"recipe-replace\"  a  true  \"say \\\"q\\\"\"\n", Ok (Chain (edit_on 1 (ExchangeLines (AtPlace (AfterVar None (codes "F"))) (block_lines (codes "c: d\n\tcp $< $@")))) (edit_on 5 (ExchangeLines (OfRun None (block_lines (codes "endif"))) [])) [] ∷ on_line 6 (Apply (ExchangeLines (OfRun None (block_lines (codes "ifdef A"))) (block_lines (codes "a:\nifdef A\nendif")))) ∷ on_line 13 (Apply (SetRecipe None (codes "a") (ByText (codes "true")) (codes "say \"q\""))) ∷ [])) ∷  -- further-run-246
    (codes "line-remove \"endef\"\ntry line-remove <<_\ndefine D\nendef\n_\n\"try\" \"set-if\" F \"a -g -O2\" \"$(a b) $\\\\x\"\n", Ok (on_line 1 (Apply (ExchangeLines (OfRun None (block_lines (codes "endef"))) [])) ∷ tried_on 2 (ExchangeLines (OfRun None (block_lines (codes "define D\nendef"))) []) ∷ tried_on 6 (ChangeValue (One None) (codes "F") (edits.SetIf (codes "a -g -O2") (codes "$(a b) $\\x"))) ∷ [])) ∷  -- further-run-247
    (codes "rule-remove x.o\nline-remove <<E\noverride = -g a:b\\\n-g $(A -g) #\n\ta\nE\ncancel\nvalues-subst\tF\t\"yy\"\nor nth 2 \"line-replace\" <<EOF \"ifdef A\"\nc&: ;\n\tx \\ y\nEOF\nredo\nundo\nrule-remove c\n line-remove <<EOF\nzz\nEOF\nor\tdrop\ta.b\t\"$ b\"\n# c\n or\tnth\t4294967295\toperator\tF\t:=\n \n or insert after-line <<9 <<end\n#X ?= $(x) # n\n\tx \\ y\noverride = -g a:b\\\n-g $(A -g) #\n9\nx \\\n\nend\n nth  4294967295  replace  \"override\"  \"a:b\"  \\#\n", Ok (on_line 1 (Apply (ExchangeLines (OfRuleRun None (codes "x.o")) [])) ∷ on_line 2 (Apply (ExchangeLines (OfRun None (block_lines (codes "override = -g a:b\\\n-g $(A -g) #\n\ta"))) [])) ∷ on_line 7 Cancel ∷ Chain (edit_on 8 (EachLine (SubstValues (codes "F") (codes "yy")))) (edit_on 9 (ExchangeLines (OfRun (Some 2) (block_lines (codes "c&: ;\n\tx \\ y"))) (block_lines (codes "ifdef A")))) [] ∷ on_line 13 Redo ∷ on_line 14 Undo ∷ on_line 15 (Apply (ExchangeLines (OfRuleRun None (codes "c")) [])) ∷ Chain (edit_on 16 (ExchangeLines (OfRun None (block_lines (codes "zz"))) [])) (edit_on 19 (ChangeValue (One None) (codes "a.b") (edits.Remove (codes "$ b")))) ((edit_on 21 (ChangeLine (Some 4294967295) (codes "F") (edits.SetOperator Simple))) ∷ (edit_on 23 (ExchangeLines (AfterRun None (block_lines (codes "#X ?= $(x) # n\n\tx \\ y\noverride = -g a:b\\\n-g $(A -g) #"))) (block_lines (codes "x \\\n")))) ∷ []) ∷ on_line 32 (Apply (ChangeLine (Some 4294967295) (codes "override") (edits.ReplaceWord (codes "a:b") (codes "\\#")))) ∷ [])) ∷  -- further-run-248
    (codes "subst  \"X\"  a:b  )\n\"insert\" after-rule d <<O1\n# a \\\n b\nO1", Ok (on_line 1 (Apply (ChangeLine None (codes "X") (edits.Substitute (codes "a:b") (codes ")")))) ∷ on_line 2 (Apply (ExchangeLines (AtPlace (AfterRule None (codes "d"))) (block_lines (codes "# a \\\n b")))) ∷ [])) ∷  -- further-run-249
    (codes " rule bottom \"c -include2\" :: \"$(a b)\"\r\ninsert\tafter-rule\t\"-include2\"\t<<E\r\n\r\n\r\nE\r\ntry insert top \"define D\"\r\nnth\t001\tline-remove\t\"\"\r\n\"line-remove\" \"#X: = 1\"\r\n", Ok (on_line 1 (Apply (AddLine Bottom (NewRule (codes "c -include2") Double (codes "$(a b)")))) ∷ on_line 2 (Apply (ExchangeLines (AtPlace (AfterRule None (codes "-include2"))) (block_lines (codes "\n")))) ∷ tried_on 6 (ExchangeLines (AtPlace Top) (block_lines (codes "define D"))) ∷ on_line 7 (Apply (ExchangeLines (OfRun (Some 1) (block_lines [])) [])) ∷ on_line 8 (Apply (ExchangeLines (OfRun None (block_lines (codes "#X: = 1"))) [])) ∷ [])) ∷  -- further-run-250
    (codes "rule-remove c\n\"all\" \"replace\" F | b\n", Ok (on_line 1 (Apply (ExchangeLines (OfRuleRun None (codes "c")) [])) ∷ on_line 2 (Apply (EachLine (ChangeEach (codes "F") (edits.ReplaceWord (codes "|") (codes "b"))))) ∷ [])) ∷  -- further-run-251
    (codes " try set-if \"F\" %.c \"a  b\"\ninsert after-last-var \"override\" <<end\noverride =;\nc::\nend\n \nor \"rule-remove\" include\nnth 002 recipe-subst c cc yy\n or \"nth\" 2 recipe-replace c t \"a # b\"\n \nor rule-remove c\n\nor add a.b -g\n set-if F a \"a  b\"\nassign top X ::= \";\"\nadd-after X ; -lz\n\n\"or\"  nth  \"1\"  rule-replace  \"c\"  \"F = aaa aaaa # aa\"\nsubst a.b b x\nbegin\n\"try\" all add X ;", Ok (tried_on 1 (ChangeValue (One None) (codes "F") (edits.SetIf (codes "%.c") (codes "a  b"))) ∷ Chain (edit_on 2 (ExchangeLines (AtPlace (AfterLastVar (codes "override"))) (block_lines (codes "override =;\nc::")))) (edit_on 7 (ExchangeLines (OfRuleRun None (codes "include")) [])) [] ∷ Chain (edit_on 8 (EachLine (SubstRecipe (Some 2) (codes "c") (codes "cc") (codes "yy")))) (edit_on 9 (SetRecipe (Some 2) (codes "c") (ByText (codes "t")) (codes "a # b"))) ((edit_on 11 (ExchangeLines (OfRuleRun None (codes "c")) [])) ∷ (edit_on 13 (ChangeValue (One None) (codes "a.b") (edits.Add (codes "-g")))) ∷ []) ∷ on_line 14 (Apply (ChangeValue (One None) (codes "F") (edits.SetIf (codes "a") (codes "a  b")))) ∷ on_line 15 (Apply (AddLine Top (NewAssign (codes "X") PosixSimple (codes ";")))) ∷ Chain (edit_on 16 (ChangeLine None (codes "X") (edits.InsertWord After (codes ";") (codes "-lz")))) (edit_on 18 (ExchangeLines (OfRuleRun (Some 1) (codes "c")) (block_lines (codes "F = aaa aaaa # aa")))) [] ∷ on_line 19 (Apply (ChangeLine None (codes "a.b") (edits.Substitute (codes "b") (codes "x")))) ∷ on_line 20 Begin ∷ tried_on 21 (ChangeValue Every (codes "X") (edits.Add (codes ";"))) ∷ [])) ∷  -- further-run-252
    (codes "subst F ; \"\"\ndrop F -O2\nadd-after \"F\" \"$ b\" \"x.c\"\n# c\n or nth 1 set F \\\\a\nrule before-var \"F\" \"a $(p #)\" : \"\"\nassign after-rule \"$(p #)\" F ::= \\#", Ok (on_line 1 (Apply (ChangeLine None (codes "F") (edits.Substitute (codes ";") []))) ∷ on_line 2 (Apply (ChangeValue (One None) (codes "F") (edits.Remove (codes "-O2")))) ∷ Chain (edit_on 3 (ChangeLine None (codes "F") (edits.InsertWord After (codes "$ b") (codes "x.c")))) (edit_on 5 (ChangeValue (One (Some 1)) (codes "F") (edits.Set (codes "\\\\a")))) [] ∷ on_line 6 (Apply (AddLine (BeforeVar None (codes "F")) (NewRule (codes "a $(p #)") Single []))) ∷ on_line 7 (Apply (AddLine (AfterRule None (codes "$(p #)")) (NewAssign (codes "F") PosixSimple (codes "\\#")))) ∷ [])) ∷  -- further-run-253
    (codes "try nth 001 rule-remove i\nreplace F -O2 \"x$(a  b)\"\n\n\"or\" rule-replace \"i\" <<end\ndefine W\ni: \\\n x.o\nendef\nend\n\nor \"recipe-replace\" i t \"a # b\"\n# c\n\"or\"\t\"recipe-insert\"\ti\t1\t\"say \\\"q\\\"\"\nline-replace \"a\\\\b: c\" <<_\nifneq (x,)\na\\b: c\nendif\n_\nundo\nnth  001  add-after  X  a:b  -lz\n\"assign\" top \"F\" += \"\"\n", Ok (tried_on 1 (ExchangeLines (OfRuleRun (Some 1) (codes "i")) []) ∷ Chain (edit_on 2 (ChangeLine None (codes "F") (edits.ReplaceWord (codes "-O2") (codes "x$(a  b)")))) (edit_on 4 (ExchangeLines (OfRuleRun None (codes "i")) (block_lines (codes "define W\ni: \\\n x.o\nendef")))) ((edit_on 11 (SetRecipe None (codes "i") (ByText (codes "t")) (codes "a # b"))) ∷ (edit_on 13 (AddRecipe None (codes "i") (At 1) (codes "say \"q\""))) ∷ []) ∷ on_line 14 (Apply (ExchangeLines (OfRun None (block_lines (codes "a\\b: c"))) (block_lines (codes "ifneq (x,)\na\\b: c\nendif")))) ∷ on_line 19 Undo ∷ on_line 20 (Apply (ChangeLine (Some 1) (codes "X") (edits.InsertWord After (codes "a:b") (codes "-lz")))) ∷ on_line 21 (Apply (AddLine Top (NewAssign (codes "F") Append []))) ∷ [])) ∷  -- further-run-254
    []

answers_5 : map (λ row. read_script row.0) rows_5 ≡ map (λ row. row.1) rows_5
unfolding line_len lines_from
answers_5 = refl

abbrev rows_6 : List (List ℕ × Result (List Step) ℕ)
rows_6 =
    (codes "uncomment X\r\n\"rule-replace\" c <<E\r\nc:\r\nifdef A\r\n\ta\r\nendif\r\n\r\n\tb\r\n\ttrue\r\nc: a\r\nE\r\n", Ok (on_line 1 (Apply (SwitchLine Uncomment None (codes "X"))) ∷ on_line 2 (Apply (ExchangeLines (OfRuleRun None (codes "c")) (block_lines (codes "c:\nifdef A\n\ta\nendif\n\n\tb\n\ttrue\nc: a")))) ∷ [])) ∷  -- further-run-255
    (codes "\"all\"  drop  a.b  b\n\"values-subst\" zz \"\"\nundo\nadd-after a.b ; x.c\nundo\nline-replace <<_ \"F += a\"\nX = 1\nzz\n_\nset-if \"a.b\" \"$(t -g) $(s (b) a)\" \"$(w a)\"\ntry line-remove <<_\na.b\\\n:=\\\n ; \\\n    b\t$$# a \\\\\n_\n\"try\" insert \"after-line\" X <<EOF\nx\\\n#X = 1\nEOF\nend\n", Ok (on_line 1 (Apply (ChangeValue Every (codes "a.b") (edits.Remove (codes "b")))) ∷ on_line 2 (Apply (EachLine (SubstValues (codes "zz") []))) ∷ on_line 3 Undo ∷ on_line 4 (Apply (ChangeLine None (codes "a.b") (edits.InsertWord After (codes ";") (codes "x.c")))) ∷ on_line 5 Undo ∷ on_line 6 (Apply (ExchangeLines (OfRun None (block_lines (codes "X = 1\nzz"))) (block_lines (codes "F += a")))) ∷ on_line 10 (Apply (ChangeValue (One None) (codes "a.b") (edits.SetIf (codes "$(t -g) $(s (b) a)") (codes "$(w a)")))) ∷ tried_on 11 (ExchangeLines (OfRun None (block_lines (codes "a.b\\\n:=\\\n ; \\\n    b\t$$# a \\\\"))) []) ∷ tried_on 17 (ExchangeLines (AfterRun None (block_lines (codes "X"))) (block_lines (codes "x\\\n#X = 1"))) ∷ on_line 21 End ∷ [])) ∷  -- further-run-256
    (codes "values-subst \\\\ x\n \"all\" subst F -O2 \"\"\nnth 002 append \"F\" \"a a\"\n nth 002 \"depend-replace\" c c \"$(a b)\"\n\nor nth \"4294967295\" \"insert\" after-line <<end \"\tababa aaa\"\nc::\nend\n\"or\" recipe-replace c \"\ttrue\" true\n \nor \"nth\" 001 \"operator\" F +=\ninsert x\nline-remove <<O1\n# n\n\ta\nO1\n\"line-replace\" c:: <<end\nF += a\n\t  cc $$f; \\\n\tababa aaa\nend\n# c\nor line-replace c:: <<E\nifdef A\nc::\nendif\nE\n\n or line-replace \"endif\" <<end\nF\\\n?=xx a a # \\\n d\nendif\nc::\nend\nor  line-remove  else\nnth 3 append F a:b\ntry all set-if F a b\n", Err 12) ∷  -- further-run-257
    (codes "try nth 2 subst X \"w a) \" x=1\nline-replace <<X <<EOF\nX = b\t$(w \\\n a) \\\n \\\n -g\nX += a b\nX\nX = b\t$(w \\\n a) \\\n \\\n -g\nX += a b\nEOF\n# c\nor nth 4294967295 comment-out F\n or nth 4 \"add\" X \"a$ b\"\nnth\t\"004\"\tadd-before\tX\tb\t-lz\nnth  4  subst  X  zz  \"a b\"\n# c\nor\tline-remove\t<<end\n\tdone\nend\n \nor nth \"4294967295\" uncomment F\nor all operator \"X\" \"::=\"\n\"all\" set-if \"X\" \"a -lz b\" \"a\\\\ b\"\ntry set-if X \"a\\\\ b\" \"a ;\"\nsubst F \"|\" \"\"\nnth 0 uncomment F\n\n\"or\" nth 2 subst X cc $\\\n \nor nth 2 drop \"X\" \"x=1\"\n \nor nth \"4\" drop X a", Ok (tried_on 1 (ChangeLine (Some 2) (codes "X") (edits.Substitute (codes "w a) ") (codes "x=1"))) ∷ Chain (edit_on 2 (ExchangeLines (OfRun None (block_lines (codes "X = b\t$(w \\\n a) \\\n \\\n -g\nX += a b"))) (block_lines (codes "X = b\t$(w \\\n a) \\\n \\\n -g\nX += a b")))) (edit_on 16 (SwitchLine CommentOut (Some 4294967295) (codes "F"))) ((edit_on 17 (ChangeValue (One (Some 4)) (codes "X") (edits.Add (codes "a$ b")))) ∷ []) ∷ on_line 18 (Apply (ChangeLine (Some 4) (codes "X") (edits.InsertWord Before (codes "b") (codes "-lz")))) ∷ Chain (edit_on 19 (ChangeLine (Some 4) (codes "X") (edits.Substitute (codes "zz") (codes "a b")))) (edit_on 21 (ExchangeLines (OfRun None (block_lines (codes "\tdone"))) [])) ((edit_on 25 (SwitchLine Uncomment (Some 4294967295) (codes "F"))) ∷ (edit_on 26 (EachLine (ChangeEach (codes "X") (edits.SetOperator PosixSimple)))) ∷ []) ∷ on_line 27 (Apply (ChangeValue Every (codes "X") (edits.SetIf (codes "a -lz b") (codes "a\\ b")))) ∷ tried_on 28 (ChangeValue (One None) (codes "X") (edits.SetIf (codes "a\\ b") (codes "a ;"))) ∷ on_line 29 (Apply (ChangeLine None (codes "F") (edits.Substitute (codes "|") []))) ∷ Chain (edit_on 30 (SwitchLine Uncomment (Some 0) (codes "F"))) (edit_on 32 (ChangeLine (Some 2) (codes "X") (edits.Substitute (codes "cc") (codes "$\\")))) ((edit_on 34 (ChangeValue (One (Some 2)) (codes "X") (edits.Remove (codes "x=1")))) ∷ (edit_on 36 (ChangeValue (One (Some 4)) (codes "X") (edits.Remove (codes "a")))) ∷ []) ∷ [])) ∷  -- further-run-258
    (codes "rule \"after-var\" F c : \"a b\"\r\nnth \"1\" drop F x=1\r\nrule-remove c\r\nvalues-subst X \\\\\r\nor nth 4294967295 add-after F ${c} x.c\r\n \r\nor subst F \" ${\" \"}\"\r\n", Ok (on_line 1 (Apply (AddLine (AfterVar None (codes "F")) (NewRule (codes "c") Single (codes "a b")))) ∷ on_line 2 (Apply (ChangeValue (One (Some 1)) (codes "F") (edits.Remove (codes "x=1")))) ∷ on_line 3 (Apply (ExchangeLines (OfRuleRun None (codes "c")) [])) ∷ Chain (edit_on 4 (EachLine (SubstValues (codes "X") (codes "\\\\")))) (edit_on 5 (ChangeLine (Some 4294967295) (codes "F") (edits.InsertWord After (codes "${c}") (codes "x.c")))) ((edit_on 7 (ChangeLine None (codes "F") (edits.Substitute (codes " ${") (codes "}")))) ∷ []) ∷ [])) ∷  -- further-run-259
    (codes "\"all\" add F a\nadd\tF\tx=1\n\"drop\" a.b \"$(w a)\"\n# c\nor uncomment X\n \nor\tappend\tF\t-include2\nline-replace <<X <<O1\nX := 1\nX\nexport X\\\n+= a x=1 b\nX := 1\nO1\nor  nth  1  \"set\"  F  x=1\n\"add\" F \"a\\\\ b\"\ntry  nth  2  insert  \"after-var\"  X  <<9\nifdef B\nifdef C\nendif\nendif\n9\nnth 2 comment-out X", Ok (on_line 1 (Apply (ChangeValue Every (codes "F") (edits.Add (codes "a")))) ∷ on_line 2 (Apply (ChangeValue (One None) (codes "F") (edits.Add (codes "x=1")))) ∷ Chain (edit_on 3 (ChangeValue (One None) (codes "a.b") (edits.Remove (codes "$(w a)")))) (edit_on 5 (SwitchLine Uncomment None (codes "X"))) ((edit_on 7 (ChangeValue (One None) (codes "F") (edits.Append (codes "-include2")))) ∷ []) ∷ Chain (edit_on 8 (ExchangeLines (OfRun None (block_lines (codes "X := 1"))) (block_lines (codes "export X\\\n+= a x=1 b\nX := 1")))) (edit_on 15 (ChangeValue (One (Some 1)) (codes "F") (edits.Set (codes "x=1")))) [] ∷ on_line 16 (Apply (ChangeValue (One None) (codes "F") (edits.Add (codes "a\\ b")))) ∷ tried_on 17 (ExchangeLines (AtPlace (AfterVar (Some 2) (codes "X"))) (block_lines (codes "ifdef B\nifdef C\nendif\nendif"))) ∷ on_line 23 (Apply (SwitchLine CommentOut (Some 2) (codes "X"))) ∷ [])) ∷  -- further-run-260
    (codes "set F <<E\nundo\nrule-replace i <<EOF\ni:\n# n\n\nEOF\n", Ok (on_line 1 (Apply (ChangeValue (One None) (codes "F") (edits.Set (codes "<<E")))) ∷ on_line 2 Undo ∷ on_line 3 (Apply (ExchangeLines (OfRuleRun None (codes "i")) (block_lines (codes "i:\n# n\n")))) ∷ [])) ∷  -- further-run-261
    (codes "all drop F \"-g\"\nor all append F =\ntry nth 2 comment-out F\nrule after-var F \"c\" : \"a b\"\n", Ok (Chain (edit_on 1 (ChangeValue Every (codes "F") (edits.Remove (codes "-g")))) (edit_on 2 (ChangeValue Every (codes "F") (edits.Append (codes "=")))) [] ∷ tried_on 3 (SwitchLine CommentOut (Some 2) (codes "F")) ∷ on_line 4 (Apply (AddLine (AfterVar None (codes "F")) (NewRule (codes "c") Single (codes "a b")))) ∷ [])) ∷  -- further-run-262
    (codes "comment-out F\nrule-remove c\ninsert bottom <<end\nF = a \\\n  b\nend\n", Ok (on_line 1 (Apply (SwitchLine CommentOut None (codes "F"))) ∷ on_line 2 (Apply (ExchangeLines (OfRuleRun None (codes "c")) [])) ∷ on_line 3 (Apply (ExchangeLines (AtPlace Bottom) (block_lines (codes "F = a \\\n  b")))) ∷ [])) ∷  -- further-run-263
    (codes "assign \"top\" F \"::=\" \"\"\r\n \r\nor \"line-replace\" <<EOF <<X\r\n\t\ttrue\r\nEOF\r\nifneq (x,)\r\n\t\ttrue\r\nendif\r\nX\r\nassign\tafter-last-var\tF\tt\t::=\t-O2\r\n nth  1  operator  F  :=\r\n try nth 002 \"line-replace\" \"F :=\" \"F :=\"\r\n", Ok (Chain (edit_on 1 (AddLine Top (NewAssign (codes "F") PosixSimple []))) (edit_on 3 (ExchangeLines (OfRun None (block_lines (codes "\t\ttrue"))) (block_lines (codes "ifneq (x,)\n\t\ttrue\nendif")))) [] ∷ on_line 10 (Apply (AddLine (AfterLastVar (codes "F")) (NewAssign (codes "t") PosixSimple (codes "-O2")))) ∷ on_line 11 (Apply (ChangeLine (Some 1) (codes "F") (edits.SetOperator Simple))) ∷ tried_on 12 (ExchangeLines (OfRun (Some 2) (block_lines (codes "F :="))) (block_lines (codes "F :="))) ∷ [])) ∷  -- further-run-264
    (codes "insert before-line <<E <<E\nX = 1\nE\n# x\nE\nline-replace <<X <<EOF\nifdef A\nF= \\\ta $(a\tb) -O2\\\n\\\n-g\\\n\\\n# c\nX\nifdef A\nifdef A\nF= \\\ta $(a\tb) -O2\\\n\\\n-g\\\n\\\n# c\nendif\nEOF\n\"try\" \"line-replace\" <<9 endif\nX = 1\nzz\n9\nline-remove a\0b\nall set F b\nredo\n\"prepend\" F a\n\nor\t\"comment-out\"\tX\n# c\n\"or\" nth 4294967295 line-replace <<O1 <<end\nifdef A\nifdef A\nO1\nifdef A\nifdef A\nifdef A\nendif\nend\nassign bottom t ::= \"$(a b) =\"", Ok (on_line 1 (Apply (ExchangeLines (BeforeRun None (block_lines (codes "X = 1"))) (block_lines (codes "# x")))) ∷ on_line 6 (Apply (ExchangeLines (OfRun None (block_lines (codes "ifdef A\nF= \\\ta $(a\tb) -O2\\\n\\\n-g\\\n\\\n# c"))) (block_lines (codes "ifdef A\nifdef A\nF= \\\ta $(a\tb) -O2\\\n\\\n-g\\\n\\\n# c\nendif")))) ∷ tried_on 23 (ExchangeLines (OfRun None (block_lines (codes "X = 1\nzz"))) (block_lines (codes "endif"))) ∷ on_line 27 (Apply (ExchangeLines (OfRun None (block_lines (codes "a\0b"))) [])) ∷ on_line 28 (Apply (ChangeValue Every (codes "F") (edits.Set (codes "b")))) ∷ on_line 29 Redo ∷ Chain (edit_on 30 (ChangeLine None (codes "F") (edits.Prepend (codes "a")))) (edit_on 32 (SwitchLine CommentOut None (codes "X"))) ((edit_on 34 (ExchangeLines (OfRun (Some 4294967295) (block_lines (codes "ifdef A\nifdef A"))) (block_lines (codes "ifdef A\nifdef A\nifdef A\nendif")))) ∷ []) ∷ on_line 43 (Apply (AddLine Bottom (NewAssign (codes "t") PosixSimple (codes "$(a b) =")))) ∷ [])) ∷  -- further-run-265
    (codes "try nth 001 add-after F aaa $x\r\n nth\t1\t\"add-after\"\tF\taaaa\tx.c\r\ntry \"nth\" 2 operator F :=\r\n\"all\" append F a\r\nunset X\r\n \r\nor rule-remove a\r\nnth 002 insert after-var F <<_\r\nc: d\r\n\tcp $< $@\r\n_\r\nnth  \"1\"  \"depend-replace\"  c  a  a&b\r\n nth 1 operator F =\r\n", Ok (tried_on 1 (ChangeLine (Some 1) (codes "F") (edits.InsertWord After (codes "aaa") (codes "$x"))) ∷ on_line 2 (Apply (ChangeLine (Some 1) (codes "F") (edits.InsertWord After (codes "aaaa") (codes "x.c")))) ∷ tried_on 3 (ChangeLine (Some 2) (codes "F") (edits.SetOperator Simple)) ∷ on_line 4 (Apply (ChangeValue Every (codes "F") (edits.Append (codes "a")))) ∷ Chain (edit_on 5 (RemoveLines (OfAssign None (codes "X")))) (edit_on 7 (ExchangeLines (OfRuleRun None (codes "a")) [])) [] ∷ on_line 8 (Apply (ExchangeLines (AtPlace (AfterVar (Some 2) (codes "F"))) (block_lines (codes "c: d\n\tcp $< $@")))) ∷ on_line 12 (Apply (ChangePrereqs (Some 1) (codes "c") (ReplacePrereq (codes "a") (codes "a&b")))) ∷ on_line 13 (Apply (ChangeLine (Some 1) (codes "F") (edits.SetOperator Recursive))) ∷ [])) ∷  -- further-run-266
    (codes "insert after-last-var F <<9\n# a \\\n b\n9\nall  set  \"F\"  \"\"\n", Ok (on_line 1 (Apply (ExchangeLines (AtPlace (AfterLastVar (codes "F"))) (block_lines (codes "# a \\\n b")))) ∷ on_line 5 (Apply (ChangeValue Every (codes "F") (edits.Set []))) ∷ [])) ∷  -- further-run-267
    (codes "operator X !=\n\"add-after\" X a x.c\nrecipes-subst\t>a\t\"\"\ndrop X x.c\nset-if  X  \"; b  a\"  \"a a\"\nor rule \"after-last-var\" \"X\" d :: \"\"\nset-if X \"\" \"\"\n# c\nor  \"comment-out\"  \"F\"\n or nth 001 assign after-rule d F ::= \"-g a\"\n# c\nor values-subst a /usr\n", Ok (on_line 1 (Apply (ChangeLine None (codes "X") (edits.SetOperator Shell))) ∷ on_line 2 (Apply (ChangeLine None (codes "X") (edits.InsertWord After (codes "a") (codes "x.c")))) ∷ on_line 3 (Apply (EachLine (SubstRecipes (codes ">a") []))) ∷ on_line 4 (Apply (ChangeValue (One None) (codes "X") (edits.Remove (codes "x.c")))) ∷ Chain (edit_on 5 (ChangeValue (One None) (codes "X") (edits.SetIf (codes "; b  a") (codes "a a")))) (edit_on 6 (AddLine (AfterLastVar (codes "X")) (NewRule (codes "d") Double []))) [] ∷ Chain (edit_on 7 (ChangeValue (One None) (codes "X") (edits.SetIf [] []))) (edit_on 9 (SwitchLine CommentOut None (codes "F"))) ((edit_on 10 (AddLine (AfterRule (Some 1) (codes "d")) (NewAssign (codes "F") PosixSimple (codes "-g a")))) ∷ (edit_on 12 (EachLine (SubstValues (codes "a") (codes "/usr")))) ∷ []) ∷ [])) ∷  -- further-run-268
    (codes "try\t\"nth\"\t0\t\"replace\"\t\"X\"\t1\tb\n\"nth\"  001  subst  F  a  x\n \nor rule-remove c\nor nth 2 set-if F a \"\"\nnth 1 prepend \"F\" \"a$ \"\nnth 2 \"line-replace\" <<EOF <<9\nendif\nF = a\nEOF\nendef\ndefine D\n9\n \nor nth 4294967295 line-remove <<end\nifdef A\n\ta\nend\n add X \\\\a\ntry nth 4294967295 line-replace <<EOF <<E\n\ta\nendif\nEOF\na: b\ndefine D\n \nE\n\"nth\"  \"2\"  line-replace  endif  <<O1\ndefine D\nx\nendef\nO1\nundo\ninsert top <<E!\n", Ok (tried_on 1 (ChangeLine (Some 0) (codes "X") (edits.ReplaceWord (codes "1") (codes "b"))) ∷ Chain (edit_on 2 (ChangeLine (Some 1) (codes "F") (edits.Substitute (codes "a") (codes "x")))) (edit_on 4 (ExchangeLines (OfRuleRun None (codes "c")) [])) ((edit_on 5 (ChangeValue (One (Some 2)) (codes "F") (edits.SetIf (codes "a") []))) ∷ []) ∷ on_line 6 (Apply (ChangeLine (Some 1) (codes "F") (edits.Prepend (codes "a$ ")))) ∷ Chain (edit_on 7 (ExchangeLines (OfRun (Some 2) (block_lines (codes "endif\nF = a"))) (block_lines (codes "endef\ndefine D")))) (edit_on 15 (ExchangeLines (OfRun (Some 4294967295) (block_lines (codes "ifdef A\n\ta"))) [])) [] ∷ on_line 19 (Apply (ChangeValue (One None) (codes "X") (edits.Add (codes "\\\\a")))) ∷ tried_on 20 (ExchangeLines (OfRun (Some 4294967295) (block_lines (codes "\ta\nendif"))) (block_lines (codes "a: b\ndefine D\n "))) ∷ on_line 28 (Apply (ExchangeLines (OfRun (Some 2) (block_lines (codes "endif"))) (block_lines (codes "define D\nx\nendef")))) ∷ on_line 33 Undo ∷ on_line 34 (Apply (ExchangeLines (AtPlace Top) (block_lines (codes "<<E!")))) ∷ [])) ∷  -- further-run-269
    (codes "\"try\"  \"nth\"  2  depend-replace  d  \"a&b\"  c\r\nline-replace <<O1 <<EOF\r\n# n\r\nO1\r\nc d: $(w a) $(w a)\r\n# n\r\nEOF\r\ndrop  override  x=1\r\n", Ok (tried_on 1 (ChangePrereqs (Some 2) (codes "d") (ReplacePrereq (codes "a&b") (codes "c"))) ∷ on_line 2 (Apply (ExchangeLines (OfRun None (block_lines (codes "# n"))) (block_lines (codes "c d: $(w a) $(w a)\n# n")))) ∷ on_line 8 (Apply (ChangeValue (One None) (codes "override") (edits.Remove (codes "x=1")))) ∷ [])) ∷  -- further-run-270
    (codes "set-if X \"$(A -g)\" \"$x\"\r\n or nth \"0\" line-replace <<_ <<9\r\nX::=a:b \\\r\n -g\\\r\n -O2\t;\\\r\n$(s (b) a) \\\r\n    \r\n_\r\nendif\r\n# n\r\n9\r\n\r\nor line-replace endif <<9\r\n\r\nF = -g\r\nF = a \\\r\n9\r\n# c\r\n \"or\" assign top a.b :::= \"\"\r\nnth 2 replace F b \"-g a\\\\ b\"\r\n\"nth\" 1 \"add-after\" F \"$(a b)\" \"-O3\"\r\nnth 1 operator X \"+=\"\r\n", Ok (Chain (edit_on 1 (ChangeValue (One None) (codes "X") (edits.SetIf (codes "$(A -g)") (codes "$x")))) (edit_on 2 (ExchangeLines (OfRun (Some 0) (block_lines (codes "X::=a:b \\\n -g\\\n -O2\t;\\\n$(s (b) a) \\\n    "))) (block_lines (codes "endif\n# n")))) ((edit_on 13 (ExchangeLines (OfRun None (block_lines (codes "endif"))) (block_lines (codes "\nF = -g\nF = a \\")))) ∷ (edit_on 19 (AddLine Top (NewAssign (codes "a.b") Immediate []))) ∷ []) ∷ on_line 20 (Apply (ChangeLine (Some 2) (codes "F") (edits.ReplaceWord (codes "b") (codes "-g a\\ b")))) ∷ on_line 21 (Apply (ChangeLine (Some 1) (codes "F") (edits.InsertWord After (codes "$(a b)") (codes "-O3")))) ∷ on_line 22 (Apply (ChangeLine (Some 1) (codes "X") (edits.SetOperator Append))) ∷ [])) ∷  -- further-run-271
    (codes "all add \"F\" \"$(w a)\"\n\"try\" nth 1 operator \"F\" +=\n line-remove <<end\n\ttrue\nF += a $(w a)\nF=-O2 \\\n-O2 $(w a)\nend\nprepend F |\ndepend-replace  c  \"$(w a)\"  &\ntry \"set-if\" \"F\" \"| -O2 ${c} $(w a)\" \"= \\\\\\\\a\"\nline-remove\t<<_\n\ta\\\n\tb\n_\nrecipe-subst \"c\" \"r f i\" $\\", Ok (on_line 1 (Apply (ChangeValue Every (codes "F") (edits.Add (codes "$(w a)")))) ∷ tried_on 2 (ChangeLine (Some 1) (codes "F") (edits.SetOperator Append)) ∷ on_line 3 (Apply (ExchangeLines (OfRun None (block_lines (codes "\ttrue\nF += a $(w a)\nF=-O2 \\\n-O2 $(w a)"))) [])) ∷ on_line 9 (Apply (ChangeLine None (codes "F") (edits.Prepend (codes "|")))) ∷ on_line 10 (Apply (ChangePrereqs None (codes "c") (ReplacePrereq (codes "$(w a)") (codes "&")))) ∷ tried_on 11 (ChangeValue (One None) (codes "F") (edits.SetIf (codes "| -O2 ${c} $(w a)") (codes "= \\\\a"))) ∷ on_line 12 (Apply (ExchangeLines (OfRun None (block_lines (codes "\ta\\\n\tb"))) [])) ∷ on_line 16 (Apply (EachLine (SubstRecipe None (codes "c") (codes "r f i") (codes "$\\")))) ∷ [])) ∷  -- further-run-272
    (codes "rule after-var F d :: \"\"\r\nrecipe-subst \"c\" true /usr\r\nall subst F $x \\\\\r\nsubst F \\\\ x\r\nundo\r\nall \"subst\" \"F\" \\\\ \"\"\r\nadd-after F \"\\\\\\\\a\" \"a:b\"\r\nor\tset\ta.b\t$\\x\r\n# c\r\nor \"comment-out\" F\r\n\"comment-out\" F\r\ntry depend-replace c \"b\" %.o\r\n", Ok (on_line 1 (Apply (AddLine (AfterVar None (codes "F")) (NewRule (codes "d") Double []))) ∷ on_line 2 (Apply (EachLine (SubstRecipe None (codes "c") (codes "true") (codes "/usr")))) ∷ on_line 3 (Apply (EachLine (ChangeEach (codes "F") (edits.Substitute (codes "$x") (codes "\\\\"))))) ∷ on_line 4 (Apply (ChangeLine None (codes "F") (edits.Substitute (codes "\\\\") (codes "x")))) ∷ on_line 5 Undo ∷ on_line 6 (Apply (EachLine (ChangeEach (codes "F") (edits.Substitute (codes "\\\\") [])))) ∷ Chain (edit_on 7 (ChangeLine None (codes "F") (edits.InsertWord After (codes "\\\\a") (codes "a:b")))) (edit_on 8 (ChangeValue (One None) (codes "a.b") (edits.Set (codes "$\\x")))) ((edit_on 10 (SwitchLine CommentOut None (codes "F"))) ∷ []) ∷ on_line 11 (Apply (SwitchLine CommentOut None (codes "F"))) ∷ tried_on 12 (ChangePrereqs None (codes "c") (ReplacePrereq (codes "b") (codes "%.o"))) ∷ [])) ∷  -- further-run-273
    (codes "depend-replace i \"a&b\" $$\r\nrecipes-subst done \"\"\r\nor add-before F a a\r\n \r\nor\trule-remove\ti\r\n\"or\" \"nth\" 2 rule-replace c <<O1\r\nc:\r\n# n\r\n\r\nO1\r\nundo\r\n\"comment-out\" F\r\nset-if F <<E a\r\n insert \"after-line\" \"  b\" <<X\r\nc: d\r\n\tcp $< $@\r\nX\r\nundo\r\n", Ok (on_line 1 (Apply (ChangePrereqs None (codes "i") (ReplacePrereq (codes "a&b") (codes "$$")))) ∷ Chain (edit_on 2 (EachLine (SubstRecipes (codes "done") []))) (edit_on 3 (ChangeLine None (codes "F") (edits.InsertWord Before (codes "a") (codes "a")))) ((edit_on 5 (ExchangeLines (OfRuleRun None (codes "i")) [])) ∷ (edit_on 6 (ExchangeLines (OfRuleRun (Some 2) (codes "c")) (block_lines (codes "c:\n# n\n")))) ∷ []) ∷ on_line 11 Undo ∷ on_line 12 (Apply (SwitchLine CommentOut None (codes "F"))) ∷ on_line 13 (Apply (ChangeValue (One None) (codes "F") (edits.SetIf (codes "<<E") (codes "a")))) ∷ on_line 14 (Apply (ExchangeLines (AfterRun None (block_lines (codes "  b"))) (block_lines (codes "c: d\n\tcp $< $@")))) ∷ on_line 18 Undo ∷ [])) ∷  -- further-run-274
    (codes " nth 2 replace F \"|\" \"a$ b\"\r\n \r\nor all prepend \"F\" |\r\ninsert before-line <<O1 <<9\r\n.RECIPEPREFIX = >\r\nF = -g  a$ b  # c\r\nO1\r\n# a \\\r\n b\r\n9\r\nall prepend F \"$ b\"\r\n\"try\"  nth  3  subst  F  a:b  x=1\r\nredo\r\nline-replace <<O1 <<end\r\n.RECIPEPREFIX = >\r\nF = $ b -g  a$ b  # c\r\nO1\r\nifdef A\r\n.RECIPEPREFIX = >\r\nF = $ b -g  a$ b  # c\r\nendif\r\nend\r\n", Ok (Chain (edit_on 1 (ChangeLine (Some 2) (codes "F") (edits.ReplaceWord (codes "|") (codes "a$ b")))) (edit_on 3 (EachLine (ChangeEach (codes "F") (edits.Prepend (codes "|"))))) [] ∷ on_line 4 (Apply (ExchangeLines (BeforeRun None (block_lines (codes ".RECIPEPREFIX = >\nF = -g  a$ b  # c"))) (block_lines (codes "# a \\\n b")))) ∷ on_line 11 (Apply (EachLine (ChangeEach (codes "F") (edits.Prepend (codes "$ b"))))) ∷ tried_on 12 (ChangeLine (Some 3) (codes "F") (edits.Substitute (codes "a:b") (codes "x=1"))) ∷ on_line 13 Redo ∷ on_line 14 (Apply (ExchangeLines (OfRun None (block_lines (codes ".RECIPEPREFIX = >\nF = $ b -g  a$ b  # c"))) (block_lines (codes "ifdef A\n.RECIPEPREFIX = >\nF = $ b -g  a$ b  # c\nendif")))) ∷ [])) ∷  -- further-run-275
    (codes "line-remove <<_\nF ::=\\\n\ta\\\n\t| ; x=1 |\n_", Ok (on_line 1 (Apply (ExchangeLines (OfRun None (block_lines (codes "F ::=\\\n\ta\\\n\t| ; x=1 |"))) [])) ∷ [])) ∷  -- further-run-276
    (codes "insert\ttop\t<<O1\n# a \\\n b\nO1", Ok (on_line 1 (Apply (ExchangeLines (AtPlace Top) (block_lines (codes "# a \\\n b")))) ∷ [])) ∷  -- further-run-277
    (codes "nth 2 recipe-remove \"c\" \"true\"\n \nor\tline-replace\t<<O1\t<<O1\n\tcc -s \\\n>y\nO1\n\noverride define E\nO1\n\nor all subst X cc -O3\n# c\nor subst \"a.b\" \"-g\" -O3\n", Ok (Chain (edit_on 1 (RemoveLines (OfRecipe (Some 2) (codes "c") (ByText (codes "true"))))) (edit_on 3 (ExchangeLines (OfRun None (block_lines (codes "\tcc -s \\\n>y"))) (block_lines (codes "\noverride define E")))) ((edit_on 11 (EachLine (ChangeEach (codes "X") (edits.Substitute (codes "cc") (codes "-O3"))))) ∷ (edit_on 13 (ChangeLine None (codes "a.b") (edits.Substitute (codes "-g") (codes "-O3")))) ∷ []) ∷ [])) ∷  -- further-run-278
    (codes "nth 001 depend-replace c a ${c}\r\ninsert \"top\" \"\tababa aaa\"\r\ndepend-replace c <<E <<F\r\nnth 2 insert after-line \"\ta\" <<X\r\n#X = 1\r\nX\r\n\"all\" subst F \"\\\\\" x\r\nor all set \"F\" \"b \\\\#\"\r\n# c\r\n \"or\" nth 1 \"recipe-insert\" c 1 \"say \\\"q\\\"\"\r\ntry nth 002 recipe-replace c t \"rm -f x\"\r\n\"nth\" 1 rule-remove \"c\"\r\n", Ok (on_line 1 (Apply (ChangePrereqs (Some 1) (codes "c") (ReplacePrereq (codes "a") (codes "${c}")))) ∷ on_line 2 (Apply (ExchangeLines (AtPlace Top) (block_lines (codes "\tababa aaa")))) ∷ on_line 3 (Apply (ChangePrereqs None (codes "c") (ReplacePrereq (codes "<<E") (codes "<<F")))) ∷ on_line 4 (Apply (ExchangeLines (AfterRun (Some 2) (block_lines (codes "\ta"))) (block_lines (codes "#X = 1")))) ∷ Chain (edit_on 7 (EachLine (ChangeEach (codes "F") (edits.Substitute (codes "\\") (codes "x"))))) (edit_on 8 (ChangeValue Every (codes "F") (edits.Set (codes "b \\#")))) ((edit_on 10 (AddRecipe (Some 1) (codes "c") (At 1) (codes "say \"q\""))) ∷ []) ∷ tried_on 11 (SetRecipe (Some 2) (codes "c") (ByText (codes "t")) (codes "rm -f x")) ∷ on_line 12 (Apply (ExchangeLines (OfRuleRun (Some 1) (codes "c")) [])) ∷ [])) ∷  -- further-run-279
    (codes "redo\r\nnth  \"2\"  \"assign\"  \"after-rule\"  c  t  \":=\"  \"b =\"\r\n nth \"002\" \"recipe-remove\" \"c\" b\r\n", Ok (on_line 1 Redo ∷ on_line 2 (Apply (AddLine (AfterRule (Some 2) (codes "c")) (NewAssign (codes "t") Simple (codes "b =")))) ∷ on_line 3 (Apply (RemoveLines (OfRecipe (Some 2) (codes "c") (ByText (codes "b"))))) ∷ [])) ∷  -- further-run-280
    (codes " set-if  F  \"\"  -O2\n\"or\"  line-replace  <<X  <<O1\nF = a \\\n  b\nX\ndefine W\nF = a \\\n  b\nendef\nO1\n\nor \"nth\" 2 drop \"a.b\" \"-g\"\n \nor line-replace \"a.b = -g -g \" <<E\nb.b = -g -g \nE\ntry subst \"a.b\" -g }\ncomment-out \"F\"\n\"or\"\tall\tdrop\tF\t-O2\nor comment-out F\n \nor all drop \"F\" a\n\"values-subst\" } $(y)\nundo\ndrop  a.b  }\n", Ok (Chain (edit_on 1 (ChangeValue (One None) (codes "F") (edits.SetIf [] (codes "-O2")))) (edit_on 2 (ExchangeLines (OfRun None (block_lines (codes "F = a \\\n  b"))) (block_lines (codes "define W\nF = a \\\n  b\nendef")))) ((edit_on 12 (ChangeValue (One (Some 2)) (codes "a.b") (edits.Remove (codes "-g")))) ∷ (edit_on 14 (ExchangeLines (OfRun None (block_lines (codes "a.b = -g -g "))) (block_lines (codes "b.b = -g -g ")))) ∷ []) ∷ tried_on 17 (ChangeLine None (codes "a.b") (edits.Substitute (codes "-g") (codes "}"))) ∷ Chain (edit_on 18 (SwitchLine CommentOut None (codes "F"))) (edit_on 19 (ChangeValue Every (codes "F") (edits.Remove (codes "-O2")))) ((edit_on 20 (SwitchLine CommentOut None (codes "F"))) ∷ (edit_on 22 (ChangeValue Every (codes "F") (edits.Remove (codes "a")))) ∷ []) ∷ on_line 23 (Apply (EachLine (SubstValues (codes "}") (codes "$(y)")))) ∷ on_line 24 Undo ∷ on_line 25 (Apply (ChangeValue (One None) (codes "a.b") (edits.Remove (codes "}")))) ∷ [])) ∷  -- further-run-281
    (codes "set-if \"F\" \"; -g ; -O2\" \"\"\nnth\t1\tcomment-out\t\"F\"\nnth \"0\" \"uncomment\" X\n# c\nor drop F \"$(w a)\"\n\nor  rule  top  c  ::  \"a b\"\n", Ok (on_line 1 (Apply (ChangeValue (One None) (codes "F") (edits.SetIf (codes "; -g ; -O2") []))) ∷ on_line 2 (Apply (SwitchLine CommentOut (Some 1) (codes "F"))) ∷ Chain (edit_on 3 (SwitchLine Uncomment (Some 0) (codes "X"))) (edit_on 5 (ChangeValue (One None) (codes "F") (edits.Remove (codes "$(w a)")))) ((edit_on 7 (AddLine Top (NewRule (codes "c") Double (codes "a b")))) ∷ []) ∷ [])) ∷  -- further-run-282
    (codes "rule before-rule %.o \"%.o %.o\" : \"a&b $(s\\\\)\"\nor \"nth\" \"4294967295\" \"prepend\" F \"-g\"\n# c\nor  assign  after-last-var  a.b  X  \"?=\"  \"-g a:b\"\n# c\nor \"nth\" \"001\" rule-remove c\n\"assign\" bottom endef := \"\"\ninsert top <<O1\na:\nifdef A\nendif\nO1\nadd-before  endef  \\#  ${c}\n \"or\" \"rule-remove\" a\ntry rule-remove a\nall  set-if  endef  \"\"  \"\"\nall operator F =\nor  \"all\"  append  \"endef\"  \"b $(t -g)\"\ninsert after-line <<X <<end\nifdef A\nX\nifdef B\nifdef C\nendif\nendif\nend\n\"or\"\trule\tbottom\td\t::\t\"\"\n", Ok (Chain (edit_on 1 (AddLine (BeforeRule None (codes "%.o")) (NewRule (codes "%.o %.o") Single (codes "a&b $(s\\)")))) (edit_on 2 (ChangeLine (Some 4294967295) (codes "F") (edits.Prepend (codes "-g")))) ((edit_on 4 (AddLine (AfterLastVar (codes "a.b")) (NewAssign (codes "X") Conditional (codes "-g a:b")))) ∷ (edit_on 6 (ExchangeLines (OfRuleRun (Some 1) (codes "c")) [])) ∷ []) ∷ on_line 7 (Apply (AddLine Bottom (NewAssign (codes "endef") Simple []))) ∷ on_line 8 (Apply (ExchangeLines (AtPlace Top) (block_lines (codes "a:\nifdef A\nendif")))) ∷ Chain (edit_on 13 (ChangeLine None (codes "endef") (edits.InsertWord Before (codes "\\#") (codes "${c}")))) (edit_on 14 (ExchangeLines (OfRuleRun None (codes "a")) [])) [] ∷ tried_on 15 (ExchangeLines (OfRuleRun None (codes "a")) []) ∷ on_line 16 (Apply (ChangeValue Every (codes "endef") (edits.SetIf [] []))) ∷ Chain (edit_on 17 (EachLine (ChangeEach (codes "F") (edits.SetOperator Recursive)))) (edit_on 18 (ChangeValue Every (codes "endef") (edits.Append (codes "b $(t -g)")))) [] ∷ Chain (edit_on 19 (ExchangeLines (AfterRun None (block_lines (codes "ifdef A"))) (block_lines (codes "ifdef B\nifdef C\nendif\nendif")))) (edit_on 27 (AddLine Bottom (NewRule (codes "d") Double []))) [] ∷ [])) ∷  -- further-run-283
    (codes "nth\t0\tline-replace\t<<O1\t<<9\nexport X::= b \\\n; = a -g \nO1\nifdef A\nexport X::= b \\\n; = a -g \nendif\n9\nor assign \"after-last-var\" \"X\" F :::= \"| x$(a  b)\"\ninsert top <<E\nE \n\tE\nE\n try nth 1 recipe-insert c 1 \"\ttrue\"\n\"insert\"  after-line  \"E \"  <<9\n# a \\\n b\n9\nsubst F \" x\" x=1\nadd-after  X  b  -lz\nall append X \"a\\\\ b\"\n\"try\" \"nth\" 0 line-replace <<_ <<O1\n\tE\nexport X::= b \\\n-lz \\\n; = a -g a\\ b \nF :::= |x=1$(a  b)\n_\ndefine Q\ndefine D\ndefine D\nO1\n", Ok (Chain (edit_on 1 (ExchangeLines (OfRun (Some 0) (block_lines (codes "export X::= b \\\n; = a -g "))) (block_lines (codes "ifdef A\nexport X::= b \\\n; = a -g \nendif")))) (edit_on 10 (AddLine (AfterLastVar (codes "X")) (NewAssign (codes "F") Immediate (codes "| x$(a  b)")))) [] ∷ on_line 11 (Apply (ExchangeLines (AtPlace Top) (block_lines (codes "E \n\tE")))) ∷ tried_on 15 (AddRecipe (Some 1) (codes "c") (At 1) (codes "\ttrue")) ∷ on_line 16 (Apply (ExchangeLines (AfterRun None (block_lines (codes "E "))) (block_lines (codes "# a \\\n b")))) ∷ on_line 20 (Apply (ChangeLine None (codes "F") (edits.Substitute (codes " x") (codes "x=1")))) ∷ on_line 21 (Apply (ChangeLine None (codes "X") (edits.InsertWord After (codes "b") (codes "-lz")))) ∷ on_line 22 (Apply (ChangeValue Every (codes "X") (edits.Append (codes "a\\ b")))) ∷ tried_on 23 (ExchangeLines (OfRun (Some 0) (block_lines (codes "\tE\nexport X::= b \\\n-lz \\\n; = a -g a\\ b \nF :::= |x=1$(a  b)"))) (block_lines (codes "define Q\ndefine D\ndefine D"))) ∷ [])) ∷  -- further-run-284
    (codes "recipes-subst >y /usr\ndrop F a b\n", Err 2) ∷  -- further-run-285
    (codes "assign bottom F ?= \"\"\r\n\"try\" assign \"bottom\" override \":=\" \"\"\r\ndepend-replace d c t\r\ntry operator F :=\r\nset-if F <<E a\r\n", Ok (on_line 1 (Apply (AddLine Bottom (NewAssign (codes "F") Conditional []))) ∷ tried_on 2 (AddLine Bottom (NewAssign (codes "override") Simple [])) ∷ on_line 3 (Apply (ChangePrereqs None (codes "d") (ReplacePrereq (codes "c") (codes "t")))) ∷ tried_on 4 (ChangeLine None (codes "F") (edits.SetOperator Simple)) ∷ on_line 5 (Apply (ChangeValue (One None) (codes "F") (edits.SetIf (codes "<<E") (codes "a")))) ∷ [])) ∷  -- further-run-286
    (codes "nth 1 assign after-rule c F != \"\"\r\nnth 2 rule-replace c <<E\r\n\tdone\r\nE\r\nredo\r\nnth 4294967295 add F ;\r\nor \"insert\" \"bottom\" <<E\r\ndefine D\r\nx\r\nendef\r\nE\r\ntry\tnth\t001\tappend\t\"X\"\t\"$(a b)\"\r\nend\r\ntry add-before F \"$(a b)\" -O3\r\ncomment-out X\r\ninsert after-line \"> a\" <<9\r\na: b\r\n\tcc -s x\r\na: b\r\n9\r\nor  drop  F  \\#\r\nor add-after \"F\" \"x$(a  b)\" x.c\r\n# c\r\n\"or\" nth 001 \"recipe-insert\" c \"001\" t", Ok (on_line 1 (Apply (AddLine (AfterRule (Some 1) (codes "c")) (NewAssign (codes "F") Shell []))) ∷ on_line 2 (Apply (ExchangeLines (OfRuleRun (Some 2) (codes "c")) (block_lines (codes "\tdone")))) ∷ on_line 5 Redo ∷ Chain (edit_on 6 (ChangeValue (One (Some 4294967295)) (codes "F") (edits.Add (codes ";")))) (edit_on 7 (ExchangeLines (AtPlace Bottom) (block_lines (codes "define D\nx\nendef")))) [] ∷ tried_on 12 (ChangeValue (One (Some 1)) (codes "X") (edits.Append (codes "$(a b)"))) ∷ on_line 13 End ∷ tried_on 14 (ChangeLine None (codes "F") (edits.InsertWord Before (codes "$(a b)") (codes "-O3"))) ∷ on_line 15 (Apply (SwitchLine CommentOut None (codes "X"))) ∷ Chain (edit_on 16 (ExchangeLines (AfterRun None (block_lines (codes "> a"))) (block_lines (codes "a: b\n\tcc -s x\na: b")))) (edit_on 21 (ChangeValue (One None) (codes "F") (edits.Remove (codes "\\#")))) ((edit_on 22 (ChangeLine None (codes "F") (edits.InsertWord After (codes "x$(a  b)") (codes "x.c")))) ∷ (edit_on 24 (AddRecipe (Some 1) (codes "c") (At 1) (codes "t"))) ∷ []) ∷ [])) ∷  -- further-run-287
    (codes "uncomment F\nrule after-rule c d : \"a b\"\ntry rule-remove \"d\"", Ok (on_line 1 (Apply (SwitchLine Uncomment None (codes "F"))) ∷ on_line 2 (Apply (AddLine (AfterRule None (codes "c")) (NewRule (codes "d") Single (codes "a b")))) ∷ tried_on 3 (ExchangeLines (OfRuleRun None (codes "d")) []) ∷ [])) ∷  -- further-run-288
    (codes "\"nth\" 3 subst F \"$(w a)\" x\n", Ok (on_line 1 (Apply (ChangeLine (Some 3) (codes "F") (edits.Substitute (codes "$(w a)") (codes "x")))) ∷ [])) ∷  -- further-run-289
    (codes "try all subst F -g \"\"\r\n\"nth\" 0 line-remove \"\"\r\nor values-subst t \"\"\r\n or \"recipe-remove\" \"c\" \"\"\r\nor nth \"2\" rule-replace d <<9\r\nc d: \\\r\n x.o\r\nifeq (a,b)\r\n9\r\ntry all set-if F a b\r\nbegin\r\ntry  append  F  \\#\r\nline-replace \">ifdef Q\" <<EOF\r\nendif\r\nifdef B\r\nEOF", Ok (tried_on 1 (EachLine (ChangeEach (codes "F") (edits.Substitute (codes "-g") []))) ∷ Chain (edit_on 2 (ExchangeLines (OfRun (Some 0) (block_lines [])) [])) (edit_on 3 (EachLine (SubstValues (codes "t") []))) ((edit_on 4 (RemoveLines (OfRecipe None (codes "c") (ByText [])))) ∷ (edit_on 5 (ExchangeLines (OfRuleRun (Some 2) (codes "d")) (block_lines (codes "c d: \\\n x.o\nifeq (a,b)")))) ∷ []) ∷ tried_on 10 (ChangeValue Every (codes "F") (edits.SetIf (codes "a") (codes "b"))) ∷ on_line 11 Begin ∷ tried_on 12 (ChangeValue (One None) (codes "F") (edits.Append (codes "\\#"))) ∷ on_line 13 (Apply (ExchangeLines (OfRun None (block_lines (codes ">ifdef Q"))) (block_lines (codes "endif\nifdef B")))) ∷ [])) ∷  -- further-run-290
    (codes "\"recipe-remove\" include true\nassign \"after-last-var\" \"F\" t := \"\"\nnth 2 subst F \\\\ $(y)\ntry  line-remove  <<9\n#\t\t Y !=b\nc d: \nc include:: # c\n9\n", Ok (on_line 1 (Apply (RemoveLines (OfRecipe None (codes "include") (ByText (codes "true"))))) ∷ on_line 2 (Apply (AddLine (AfterLastVar (codes "F")) (NewAssign (codes "t") Simple []))) ∷ on_line 3 (Apply (ChangeLine (Some 2) (codes "F") (edits.Substitute (codes "\\\\") (codes "$(y)")))) ∷ tried_on 4 (ExchangeLines (OfRun None (block_lines (codes "#\t\t Y !=b\nc d: \nc include:: # c"))) []) ∷ [])) ∷  -- further-run-291
    (codes "undo\nadd F -g\nbegin\n nth \"001\" operator F !=\nredo", Ok (on_line 1 Undo ∷ on_line 2 (Apply (ChangeValue (One None) (codes "F") (edits.Add (codes "-g")))) ∷ on_line 3 Begin ∷ on_line 4 (Apply (ChangeLine (Some 1) (codes "F") (edits.SetOperator Shell))) ∷ on_line 5 Redo ∷ [])) ∷  -- further-run-292
    (codes "all set-if X \"\" \"\"\n\nor drop X b\n\"or\" nth 0 \"line-replace\" <<_ endef\noverride X := a \\\n    $$ =  x=1 \\\\ #-g\n_\n\n\"or\" nth 4294967295 rule-replace a <<X\na:\n\ta \\\n\tb\nX\ntry\tline-remove\t\"vpath %.c a\"\nreplace F a \"$(w a) =\"\ntry nth 0 depend-order a $(s\\)\n\"append\" \"a.b\" a:b\n# c\nor assign after-last-var F F \":=\" \"b\"", Ok (Chain (edit_on 1 (ChangeValue Every (codes "X") (edits.SetIf [] []))) (edit_on 3 (ChangeValue (One None) (codes "X") (edits.Remove (codes "b")))) ((edit_on 4 (ExchangeLines (OfRun (Some 0) (block_lines (codes "override X := a \\\n    $$ =  x=1 \\\\ #-g"))) (block_lines (codes "endef")))) ∷ (edit_on 9 (ExchangeLines (OfRuleRun (Some 4294967295) (codes "a")) (block_lines (codes "a:\n\ta \\\n\tb")))) ∷ []) ∷ tried_on 14 (ExchangeLines (OfRun None (block_lines (codes "vpath %.c a"))) []) ∷ on_line 15 (Apply (ChangeLine None (codes "F") (edits.ReplaceWord (codes "a") (codes "$(w a) =")))) ∷ tried_on 16 (ChangePrereqs (Some 0) (codes "a") (AddPrereq true (codes "$(s\\)"))) ∷ Chain (edit_on 17 (ChangeValue (One None) (codes "a.b") (edits.Append (codes "a:b")))) (edit_on 19 (AddLine (AfterLastVar (codes "F")) (NewAssign (codes "F") Simple (codes "b")))) [] ∷ [])) ∷  -- further-run-293
    (codes "rule after-rule d d \"::\" \"\"\r\n\"insert\" top <<_\r\nendef\r\ndefine D\r\n_\r\ninsert top <<X\r\nifdef B\r\nifdef C\r\nendif\r\nendif\r\nX\r\n \"append\" F \"$(s (b) a)\"\r\nrule \"after-rule\" c d :: \"\"\r\ninsert after-last-var F <<9\r\nx \\\r\n\r\n9\r\nnth 0 \"comment-out\" override\r\n set-if \"F\" \"$(a\tb) x=1 $(s (b) a)\" \"\"\r\n line-replace \"  b\" \"\"\r\n", Ok (on_line 1 (Apply (AddLine (AfterRule None (codes "d")) (NewRule (codes "d") Double []))) ∷ on_line 2 (Apply (ExchangeLines (AtPlace Top) (block_lines (codes "endef\ndefine D")))) ∷ on_line 6 (Apply (ExchangeLines (AtPlace Top) (block_lines (codes "ifdef B\nifdef C\nendif\nendif")))) ∷ on_line 12 (Apply (ChangeValue (One None) (codes "F") (edits.Append (codes "$(s (b) a)")))) ∷ on_line 13 (Apply (AddLine (AfterRule None (codes "c")) (NewRule (codes "d") Double []))) ∷ on_line 14 (Apply (ExchangeLines (AtPlace (AfterLastVar (codes "F"))) (block_lines (codes "x \\\n")))) ∷ on_line 18 (Apply (SwitchLine CommentOut (Some 0) (codes "override"))) ∷ on_line 19 (Apply (ChangeValue (One None) (codes "F") (edits.SetIf (codes "$(a\tb) x=1 $(s (b) a)") []))) ∷ on_line 20 (Apply (ExchangeLines (OfRun None (block_lines (codes "  b"))) (block_lines []))) ∷ [])) ∷  -- further-run-294
    (codes "nth 002 comment-out \"F\"\n\n\"or\"  rule  top  %.o  :  \"\"\n\"add\" \"F\" \"$(a b)\"\n \"line-replace\" %.o: <<X\n%.o:\nF+= a:b \\\n \\\n \\ b $(a b) # a \\\\\nX\n\"or\" rule-remove c\n replace F \"\\\\ b\" \"a$ b\"", Ok (Chain (edit_on 1 (SwitchLine CommentOut (Some 2) (codes "F"))) (edit_on 3 (AddLine Top (NewRule (codes "%.o") Single []))) [] ∷ on_line 4 (Apply (ChangeValue (One None) (codes "F") (edits.Add (codes "$(a b)")))) ∷ Chain (edit_on 5 (ExchangeLines (OfRun None (block_lines (codes "%.o:"))) (block_lines (codes "%.o:\nF+= a:b \\\n \\\n \\ b $(a b) # a \\\\")))) (edit_on 11 (ExchangeLines (OfRuleRun None (codes "c")) [])) [] ∷ on_line 12 (Apply (ChangeLine None (codes "F") (edits.ReplaceWord (codes "\\ b") (codes "a$ b")))) ∷ [])) ∷  -- further-run-295
    (codes "comment-out override\r\nor  \"add\"  X  ${c}\r\n line-replace <<X \"X = 1\"\r\nX\\\r\n?= -g a:b ${c}# a \\\\\r\nX\r\n", Ok (Chain (edit_on 1 (SwitchLine CommentOut None (codes "override"))) (edit_on 2 (ChangeValue (One None) (codes "X") (edits.Add (codes "${c}")))) [] ∷ on_line 3 (Apply (ExchangeLines (OfRun None (block_lines (codes "X\\\n?= -g a:b ${c}# a \\\\"))) (block_lines (codes "X = 1")))) ∷ [])) ∷  -- further-run-296
    (codes " \"line-remove\"\t\"  b\"\r\ninsert before-line <<E <<E\r\nX = 1\r\nE\r\n# x\r\nE\r\nadd F -g\r\n", Ok (on_line 1 (Apply (ExchangeLines (OfRun None (block_lines (codes "  b"))) [])) ∷ on_line 2 (Apply (ExchangeLines (BeforeRun None (block_lines (codes "X = 1"))) (block_lines (codes "# x")))) ∷ on_line 7 (Apply (ChangeValue (One None) (codes "F") (edits.Add (codes "-g")))) ∷ [])) ∷  -- further-run-297
    (codes " nth \"2\" add X a:b\r\ninsert after-var \"$(X)\" <<E\r\nifdef A\r\n\tx\r\nelse\r\n\ty\r\nendif\r\nE\r\ntry all set-if F a b\r\nend\r\nall \"subst\" X \"b a:b\" x\r\n nth 002 \"drop\" X \\\\a\r\n\"line-replace\"  \"# F is on\"  <<O1\r\nifdef A\r\n# F is on\r\nendif\r\nO1\r\nall set-if X ababa \"$\\\\x -O2\"\r\n\"or\" nth 002 prepend X \"a \"\r\n", Ok (on_line 1 (Apply (ChangeValue (One (Some 2)) (codes "X") (edits.Add (codes "a:b")))) ∷ on_line 2 (Apply (ExchangeLines (AtPlace (AfterVar None (codes "$(X)"))) (block_lines (codes "ifdef A\n\tx\nelse\n\ty\nendif")))) ∷ tried_on 9 (ChangeValue Every (codes "F") (edits.SetIf (codes "a") (codes "b"))) ∷ on_line 10 End ∷ on_line 11 (Apply (EachLine (ChangeEach (codes "X") (edits.Substitute (codes "b a:b") (codes "x"))))) ∷ on_line 12 (Apply (ChangeValue (One (Some 2)) (codes "X") (edits.Remove (codes "\\\\a")))) ∷ on_line 13 (Apply (ExchangeLines (OfRun None (block_lines (codes "# F is on"))) (block_lines (codes "ifdef A\n# F is on\nendif")))) ∷ Chain (edit_on 18 (ChangeValue Every (codes "X") (edits.SetIf (codes "ababa") (codes "$\\x -O2")))) (edit_on 19 (ChangeLine (Some 2) (codes "X") (edits.Prepend (codes "a ")))) [] ∷ [])) ∷  -- further-run-298
    (codes "all \"append\" X \"$(A -g)\"\n\"try\" set-if \"X\" \"$(A -g)\" \"\"\nline-remove \"\ttrue\"\ninsert\tafter-last-var\tX\t<<X\na:\nifdef A\nendif\nX\nset-if X \"\" \"\"\n\"try\" append override a\nundo\nset-if X \"\" \"\"\nrecipe-insert  \"a\"  1  >a\n", Ok (on_line 1 (Apply (ChangeValue Every (codes "X") (edits.Append (codes "$(A -g)")))) ∷ tried_on 2 (ChangeValue (One None) (codes "X") (edits.SetIf (codes "$(A -g)") [])) ∷ on_line 3 (Apply (ExchangeLines (OfRun None (block_lines (codes "\ttrue"))) [])) ∷ on_line 4 (Apply (ExchangeLines (AtPlace (AfterLastVar (codes "X"))) (block_lines (codes "a:\nifdef A\nendif")))) ∷ on_line 9 (Apply (ChangeValue (One None) (codes "X") (edits.SetIf [] []))) ∷ tried_on 10 (ChangeValue (One None) (codes "override") (edits.Append (codes "a"))) ∷ on_line 11 Undo ∷ on_line 12 (Apply (ChangeValue (One None) (codes "X") (edits.SetIf [] []))) ∷ on_line 13 (Apply (AddRecipe None (codes "a") (At 1) (codes ">a"))) ∷ [])) ∷  -- further-run-299
    (codes "replace F -O2 \"-O3 -g\"", Ok (on_line 1 (Apply (ChangeLine None (codes "F") (edits.ReplaceWord (codes "-O2") (codes "-O3 -g")))) ∷ [])) ∷  -- further-0
    (codes "add-after S a.c x.c", Ok (on_line 1 (Apply (ChangeLine None (codes "S") (edits.InsertWord After (codes "a.c") (codes "x.c")))) ∷ [])) ∷  -- further-1
    (codes "add-after S b.c x.c", Ok (on_line 1 (Apply (ChangeLine None (codes "S") (edits.InsertWord After (codes "b.c") (codes "x.c")))) ∷ [])) ∷  -- further-2
    (codes "add-before S a.c x.c", Ok (on_line 1 (Apply (ChangeLine None (codes "S") (edits.InsertWord Before (codes "a.c") (codes "x.c")))) ∷ [])) ∷  -- further-3
    (codes "add-after S a.c b.c", Ok (on_line 1 (Apply (ChangeLine None (codes "S") (edits.InsertWord After (codes "a.c") (codes "b.c")))) ∷ [])) ∷  -- further-4
    []

answers_6 : map (λ row. read_script row.0) rows_6 ≡ map (λ row. row.1) rows_6
unfolding line_len lines_from
answers_6 = refl

abbrev rows_7 : List (List ℕ × Result (List Step) ℕ)
rows_7 =
    (codes "subst D /usr/local /usr", Ok (on_line 1 (Apply (ChangeLine None (codes "D") (edits.Substitute (codes "/usr/local") (codes "/usr")))) ∷ [])) ∷  -- further-5
    (codes "subst F \"a \" \"\"", Ok (on_line 1 (Apply (ChangeLine None (codes "F") (edits.Substitute (codes "a ") []))) ∷ [])) ∷  -- further-6
    (codes "subst F a \"\"", Ok (on_line 1 (Apply (ChangeLine None (codes "F") (edits.Substitute (codes "a") []))) ∷ [])) ∷  -- further-7
    (codes "subst F a \"x # y\"", Ok (on_line 1 (Apply (ChangeLine None (codes "F") (edits.Substitute (codes "a") (codes "x # y")))) ∷ [])) ∷  -- further-8
    (codes "subst F \")\" \"\"", Ok (on_line 1 (Apply (ChangeLine None (codes "F") (edits.Substitute (codes ")") []))) ∷ [])) ∷  -- further-9
    (codes "set-if T b c", Ok (on_line 1 (Apply (ChangeValue (One None) (codes "T") (edits.SetIf (codes "b") (codes "c")))) ∷ [])) ∷  -- further-11
    (codes "operator CC ?=", Ok (on_line 1 (Apply (ChangeLine None (codes "CC") (edits.SetOperator Conditional))) ∷ [])) ∷  -- further-13
    (codes "prepend L -lz", Ok (on_line 1 (Apply (ChangeLine None (codes "L") (edits.Prepend (codes "-lz")))) ∷ [])) ∷  -- further-14
    (codes "depend-replace p a.a a.so", Ok (on_line 1 (Apply (ChangePrereqs None (codes "p") (ReplacePrereq (codes "a.a") (codes "a.so")))) ∷ [])) ∷  -- further-16
    (codes "depend-replace p a b", Ok (on_line 1 (Apply (ChangePrereqs None (codes "p") (ReplacePrereq (codes "a") (codes "b")))) ∷ [])) ∷  -- further-17
    (codes "recipe-subst i \"cc -s\" cc", Ok (on_line 1 (Apply (EachLine (SubstRecipe None (codes "i") (codes "cc -s") (codes "cc")))) ∷ [])) ∷  -- further-18
    (codes "recipe-subst i \"; \\\\\" \" && \\\\\"", Ok (on_line 1 (Apply (EachLine (SubstRecipe None (codes "i") (codes "; \\") (codes " && \\")))) ∷ [])) ∷  -- further-19
    (codes "recipe-subst i \" \\\\\" \"\"", Ok (on_line 1 (Apply (EachLine (SubstRecipe None (codes "i") (codes " \\") []))) ∷ [])) ∷  -- further-20
    (codes "recipe-subst i a \"a \\\\\"", Ok (on_line 1 (Apply (EachLine (SubstRecipe None (codes "i") (codes "a") (codes "a \\")))) ∷ [])) ∷  -- further-21
    (codes "insert top \"# ours\"", Ok (on_line 1 (Apply (ExchangeLines (AtPlace Top) (block_lines (codes "# ours")))) ∷ [])) ∷  -- further-22
    (codes "insert after-rule a <<E\nc: d\n\tcp $< $@\nE", Ok (on_line 1 (Apply (ExchangeLines (AtPlace (AfterRule None (codes "a"))) (block_lines (codes "c: d\n\tcp $< $@")))) ∷ [])) ∷  -- further-23
    (codes "line-replace \"X = 1\" <<E\nifdef A\nX = 1\nendif\nE", Ok (on_line 1 (Apply (ExchangeLines (OfRun None (block_lines (codes "X = 1"))) (block_lines (codes "ifdef A\nX = 1\nendif")))) ∷ [])) ∷  -- further-24
    (codes "line-replace \"ifdef A\" \"ifndef A\"", Ok (on_line 1 (Apply (ExchangeLines (OfRun None (block_lines (codes "ifdef A"))) (block_lines (codes "ifndef A")))) ∷ [])) ∷  -- further-25
    (codes "line-remove endif", Ok (on_line 1 (Apply (ExchangeLines (OfRun None (block_lines (codes "endif"))) [])) ∷ [])) ∷  -- further-26
    (codes "insert after-line \"-include b.mk\" \"include c.mk\"", Ok (on_line 1 (Apply (ExchangeLines (AfterRun None (block_lines (codes "-include b.mk"))) (block_lines (codes "include c.mk")))) ∷ [])) ∷  -- further-27
    (codes "line-replace X Y", Ok (on_line 1 (Apply (ExchangeLines (OfRun None (block_lines (codes "X"))) (block_lines (codes "Y")))) ∷ [])) ∷  -- further-28
    (codes "line-remove X", Ok (on_line 1 (Apply (ExchangeLines (OfRun None (block_lines (codes "X"))) [])) ∷ [])) ∷  -- further-29
    (codes "nth 2 line-remove X", Ok (on_line 1 (Apply (ExchangeLines (OfRun (Some 2) (block_lines (codes "X"))) [])) ∷ [])) ∷  -- further-30
    (codes "insert after-line \"a:\" \"Y = 1\"", Ok (on_line 1 (Apply (ExchangeLines (AfterRun None (block_lines (codes "a:"))) (block_lines (codes "Y = 1")))) ∷ [])) ∷  -- further-31
    (codes "line-replace <<O <<N\nF = a \\\n  b\nO\nF = a\nN", Ok (on_line 1 (Apply (ExchangeLines (OfRun None (block_lines (codes "F = a \\\n  b"))) (block_lines (codes "F = a")))) ∷ [])) ∷  -- further-32
    (codes "line-replace a c", Ok (on_line 1 (Apply (ExchangeLines (OfRun None (block_lines (codes "a"))) (block_lines (codes "c")))) ∷ [])) ∷  -- further-33
    (codes "rule-replace t <<E\nt:\n\ttrue\nE", Ok (on_line 1 (Apply (ExchangeLines (OfRuleRun None (codes "t")) (block_lines (codes "t:\n\ttrue")))) ∷ [])) ∷  -- further-34
    (codes "rule-remove t", Ok (on_line 1 (Apply (ExchangeLines (OfRuleRun None (codes "t")) [])) ∷ [])) ∷  -- further-35
    (codes "assign after-last-var C C += c", Ok (on_line 1 (Apply (AddLine (AfterLastVar (codes "C")) (NewAssign (codes "C") Append (codes "c")))) ∷ [])) ∷  -- further-36
    (codes "comment-out CC", Ok (on_line 1 (Apply (SwitchLine CommentOut None (codes "CC"))) ∷ [])) ∷  -- further-37
    (codes "uncomment SYSTEMD", Ok (on_line 1 (Apply (SwitchLine Uncomment None (codes "SYSTEMD"))) ∷ [])) ∷  -- further-38
    (codes "uncomment CC", Ok (on_line 1 (Apply (SwitchLine Uncomment None (codes "CC"))) ∷ [])) ∷  -- further-39
    (codes "uncomment P", Ok (on_line 1 (Apply (SwitchLine Uncomment None (codes "P"))) ∷ [])) ∷  -- further-40
    (codes "drop F -g", Ok (on_line 1 (Apply (ChangeValue (One None) (codes "F") (edits.Remove (codes "-g")))) ∷ [])) ∷  -- further-41
    (codes "insert after-line X Y", Ok (on_line 1 (Apply (ExchangeLines (AfterRun None (block_lines (codes "X"))) (block_lines (codes "Y")))) ∷ [])) ∷  -- further-42
    (codes "insert bottom \"\ty\"", Ok (on_line 1 (Apply (ExchangeLines (AtPlace Bottom) (block_lines (codes "\ty")))) ∷ [])) ∷  -- further-43
    (codes "insert after-rule a \"\ty\"", Ok (on_line 1 (Apply (ExchangeLines (AtPlace (AfterRule None (codes "a"))) (block_lines (codes "\ty")))) ∷ [])) ∷  -- further-44
    (codes "insert after-rule a y", Ok (on_line 1 (Apply (ExchangeLines (AtPlace (AfterRule None (codes "a"))) (block_lines (codes "y")))) ∷ [])) ∷  -- further-45
    (codes "assign after-rule b Y = 1", Ok (on_line 1 (Apply (AddLine (AfterRule None (codes "b")) (NewAssign (codes "Y") Recursive (codes "1")))) ∷ [])) ∷  -- further-46
    (codes "rule-remove b", Ok (on_line 1 (Apply (ExchangeLines (OfRuleRun None (codes "b")) [])) ∷ [])) ∷  -- further-47
    (codes "rule-replace a x", Ok (on_line 1 (Apply (ExchangeLines (OfRuleRun None (codes "a")) (block_lines (codes "x")))) ∷ [])) ∷  -- further-48
    (codes "rule-replace a \"a b: c\"", Ok (on_line 1 (Apply (ExchangeLines (OfRuleRun None (codes "a")) (block_lines (codes "a b: c")))) ∷ [])) ∷  -- further-49
    (codes "rule-remove a", Ok (on_line 1 (Apply (ExchangeLines (OfRuleRun None (codes "a")) [])) ∷ [])) ∷  -- further-50
    (codes "set-if T <<E x", Ok (on_line 1 (Apply (ChangeValue (One None) (codes "T") (edits.SetIf (codes "<<E") (codes "x")))) ∷ [])) ∷  -- further-51
    (codes "depend-replace a <<E b", Ok (on_line 1 (Apply (ChangePrereqs None (codes "a") (ReplacePrereq (codes "<<E") (codes "b")))) ∷ [])) ∷  -- further-52
    (codes "insert after-last-var <<E x", Ok (on_line 1 (Apply (ExchangeLines (AtPlace (AfterLastVar (codes "<<E"))) (block_lines (codes "x")))) ∷ [])) ∷  -- further-53
    (codes "rule-replace <<E <<E\nx\nE", Ok (on_line 1 (Apply (ExchangeLines (OfRuleRun None (codes "<<E")) (block_lines (codes "x")))) ∷ [])) ∷  -- further-54
    (codes "insert before-line <<E <<E\nX = 1\nE\n# x\nE", Ok (on_line 1 (Apply (ExchangeLines (BeforeRun None (block_lines (codes "X = 1"))) (block_lines (codes "# x")))) ∷ [])) ∷  -- further-55
    (codes "assign after-rule c t = 1", Ok (on_line 1 (Apply (AddLine (AfterRule None (codes "c")) (NewAssign (codes "t") Recursive (codes "1")))) ∷ [])) ∷  -- further-56
    (codes "rule after-last-var X t : a", Ok (on_line 1 (Apply (AddLine (AfterLastVar (codes "X")) (NewRule (codes "t") Single (codes "a")))) ∷ [])) ∷  -- further-58
    []

answers_7 : map (λ row. read_script row.0) rows_7 ≡ map (λ row. row.1) rows_7
unfolding line_len lines_from
answers_7 = refl

abbrev rows_8 : List (List ℕ × Result (List Step) ℕ)
rows_8 =
    (codes "insert top \".RECIPEPREFIX = >\"", Ok (on_line 1 (Apply (ExchangeLines (AtPlace Top) (block_lines (codes ".RECIPEPREFIX = >")))) ∷ [])) ∷  -- further-59
    (codes "insert after-last-var .RECIPEPREFIX x", Ok (on_line 1 (Apply (ExchangeLines (AtPlace (AfterLastVar (codes ".RECIPEPREFIX"))) (block_lines (codes "x")))) ∷ [])) ∷  -- further-60
    (codes "line-replace \".RECIPEPREFIX = >\" x", Ok (on_line 1 (Apply (ExchangeLines (OfRun None (block_lines (codes ".RECIPEPREFIX = >"))) (block_lines (codes "x")))) ∷ [])) ∷  -- further-62
    (codes "line-replace \".RECIPEPREFIX = >\" \".RECIPEPREFIX = >\"", Ok (on_line 1 (Apply (ExchangeLines (OfRun None (block_lines (codes ".RECIPEPREFIX = >"))) (block_lines (codes ".RECIPEPREFIX = >")))) ∷ [])) ∷  -- further-63
    (codes "insert bottom \".RECIPEPREFIX = >\"", Ok (on_line 1 (Apply (ExchangeLines (AtPlace Bottom) (block_lines (codes ".RECIPEPREFIX = >")))) ∷ [])) ∷  -- further-64
    (codes "insert bottom X", Ok (on_line 1 (Apply (ExchangeLines (AtPlace Bottom) (block_lines (codes "X")))) ∷ [])) ∷  -- further-65
    (codes "insert bottom Y", Ok (on_line 1 (Apply (ExchangeLines (AtPlace Bottom) (block_lines (codes "Y")))) ∷ [])) ∷  -- further-66
    (codes "insert bottom endef", Ok (on_line 1 (Apply (ExchangeLines (AtPlace Bottom) (block_lines (codes "endef")))) ∷ [])) ∷  -- further-67
    (codes "insert after-last-var X endif", Ok (on_line 1 (Apply (ExchangeLines (AtPlace (AfterLastVar (codes "X"))) (block_lines (codes "endif")))) ∷ [])) ∷  -- further-69
    (codes "assign after-last-var X Y = 1", Ok (on_line 1 (Apply (AddLine (AfterLastVar (codes "X")) (NewAssign (codes "Y") Recursive (codes "1")))) ∷ [])) ∷  -- further-70
    (codes "insert after-line a: <<E\nifdef A\nY = 1\nE", Ok (on_line 1 (Apply (ExchangeLines (AfterRun None (block_lines (codes "a:"))) (block_lines (codes "ifdef A\nY = 1")))) ∷ [])) ∷  -- further-72
    (codes "nth 3 set-if T b c", Ok (on_line 1 (Apply (ChangeValue (One (Some 3)) (codes "T") (edits.SetIf (codes "b") (codes "c")))) ∷ [])) ∷  -- further-73
    (codes "nth 2 set-if T b c", Ok (on_line 1 (Apply (ChangeValue (One (Some 2)) (codes "T") (edits.SetIf (codes "b") (codes "c")))) ∷ [])) ∷  -- further-74
    (codes "nth 0 set-if T b c", Ok (on_line 1 (Apply (ChangeValue (One (Some 0)) (codes "T") (edits.SetIf (codes "b") (codes "c")))) ∷ [])) ∷  -- further-75
    (codes "all set-if T b c", Ok (on_line 1 (Apply (ChangeValue Every (codes "T") (edits.SetIf (codes "b") (codes "c")))) ∷ [])) ∷  -- further-79
    (codes "add-after F a b", Ok (on_line 1 (Apply (ChangeLine None (codes "F") (edits.InsertWord After (codes "a") (codes "b")))) ∷ [])) ∷  -- further-81
    (codes "add-after F a c", Ok (on_line 1 (Apply (ChangeLine None (codes "F") (edits.InsertWord After (codes "a") (codes "c")))) ∷ [])) ∷  -- further-82
    (codes "add-after F a a", Ok (on_line 1 (Apply (ChangeLine None (codes "F") (edits.InsertWord After (codes "a") (codes "a")))) ∷ [])) ∷  -- further-83
    (codes "add-before F c b", Ok (on_line 1 (Apply (ChangeLine None (codes "F") (edits.InsertWord Before (codes "c") (codes "b")))) ∷ [])) ∷  -- further-84
    (codes "uncomment X", Ok (on_line 1 (Apply (SwitchLine Uncomment None (codes "X"))) ∷ [])) ∷  -- further-89
    (codes "uncomment export", Ok (on_line 1 (Apply (SwitchLine Uncomment None (codes "export"))) ∷ [])) ∷  -- further-90
    (codes "uncomment override", Ok (on_line 1 (Apply (SwitchLine Uncomment None (codes "override"))) ∷ [])) ∷  -- further-91
    (codes "uncomment F", Ok (on_line 1 (Apply (SwitchLine Uncomment None (codes "F"))) ∷ [])) ∷  -- further-92
    (codes "comment-out X", Ok (on_line 1 (Apply (SwitchLine CommentOut None (codes "X"))) ∷ [])) ∷  -- further-103
    (codes "add-after S a x", Ok (on_line 1 (Apply (ChangeLine None (codes "S") (edits.InsertWord After (codes "a") (codes "x")))) ∷ [])) ∷  -- further-105
    (codes "add-before S b x", Ok (on_line 1 (Apply (ChangeLine None (codes "S") (edits.InsertWord Before (codes "b") (codes "x")))) ∷ [])) ∷  -- further-106
    (codes "add-after S b x", Ok (on_line 1 (Apply (ChangeLine None (codes "S") (edits.InsertWord After (codes "b") (codes "x")))) ∷ [])) ∷  -- further-107
    (codes "add-after S c x", Ok (on_line 1 (Apply (ChangeLine None (codes "S") (edits.InsertWord After (codes "c") (codes "x")))) ∷ [])) ∷  -- further-108
    (codes "add-before S a x", Ok (on_line 1 (Apply (ChangeLine None (codes "S") (edits.InsertWord Before (codes "a") (codes "x")))) ∷ [])) ∷  -- further-110
    (codes "add-after S \"$(w a)\" x", Ok (on_line 1 (Apply (ChangeLine None (codes "S") (edits.InsertWord After (codes "$(w a)") (codes "x")))) ∷ [])) ∷  -- further-114
    (codes "add-after S a b", Ok (on_line 1 (Apply (ChangeLine None (codes "S") (edits.InsertWord After (codes "a") (codes "b")))) ∷ [])) ∷  -- further-117
    (codes "add-after S a \"b c\"", Ok (on_line 1 (Apply (ChangeLine None (codes "S") (edits.InsertWord After (codes "a") (codes "b c")))) ∷ [])) ∷  -- further-118
    (codes "add-after S \"\" b", Ok (on_line 1 (Apply (ChangeLine None (codes "S") (edits.InsertWord After [] (codes "b")))) ∷ [])) ∷  -- further-119
    (codes "subst F b c", Ok (on_line 1 (Apply (ChangeLine None (codes "F") (edits.Substitute (codes "b") (codes "c")))) ∷ [])) ∷  -- further-120
    (codes "subst F a x", Ok (on_line 1 (Apply (ChangeLine None (codes "F") (edits.Substitute (codes "a") (codes "x")))) ∷ [])) ∷  -- further-121
    (codes "subst F x \"\"", Ok (on_line 1 (Apply (ChangeLine None (codes "F") (edits.Substitute (codes "x") []))) ∷ [])) ∷  -- further-122
    (codes "subst F a \" \"", Ok (on_line 1 (Apply (ChangeLine None (codes "F") (edits.Substitute (codes "a") (codes " ")))) ∷ [])) ∷  -- further-123
    (codes "subst F b \"\"", Ok (on_line 1 (Apply (ChangeLine None (codes "F") (edits.Substitute (codes "b") []))) ∷ [])) ∷  -- further-125
    (codes "subst F b \" c\"", Ok (on_line 1 (Apply (ChangeLine None (codes "F") (edits.Substitute (codes "b") (codes " c")))) ∷ [])) ∷  -- further-126
    (codes "subst F \" \" :", Ok (on_line 1 (Apply (ChangeLine None (codes "F") (edits.Substitute (codes " ") (codes ":")))) ∷ [])) ∷  -- further-129
    (codes "subst F aa b", Ok (on_line 1 (Apply (ChangeLine None (codes "F") (edits.Substitute (codes "aa") (codes "b")))) ∷ [])) ∷  -- further-130
    (codes "subst F a \"\\\\\"", Ok (on_line 1 (Apply (ChangeLine None (codes "F") (edits.Substitute (codes "a") (codes "\\")))) ∷ [])) ∷  -- further-131
    (codes "set-if X b \"\"", Ok (on_line 1 (Apply (ChangeValue (One None) (codes "X") (edits.SetIf (codes "b") []))) ∷ [])) ∷  -- further-133
    (codes "set-if X \"a b\" c", Ok (on_line 1 (Apply (ChangeValue (One None) (codes "X") (edits.SetIf (codes "a b") (codes "c")))) ∷ [])) ∷  -- further-135
    (codes "set-if X \"\" b", Ok (on_line 1 (Apply (ChangeValue (One None) (codes "X") (edits.SetIf [] (codes "b")))) ∷ [])) ∷  -- further-137
    (codes "set-if X a a", Ok (on_line 1 (Apply (ChangeValue (One None) (codes "X") (edits.SetIf (codes "a") (codes "a")))) ∷ [])) ∷  -- further-138
    (codes "all set-if X a c", Ok (on_line 1 (Apply (ChangeValue Every (codes "X") (edits.SetIf (codes "a") (codes "c")))) ∷ [])) ∷  -- further-139
    (codes "set-if X \"a \" b", Ok (on_line 1 (Apply (ChangeValue (One None) (codes "X") (edits.SetIf (codes "a ") (codes "b")))) ∷ [])) ∷  -- further-140
    (codes "set-if X a \" b\"", Ok (on_line 1 (Apply (ChangeValue (One None) (codes "X") (edits.SetIf (codes "a") (codes " b")))) ∷ [])) ∷  -- further-141
    (codes "insert after-rule t z", Ok (on_line 1 (Apply (ExchangeLines (AtPlace (AfterRule None (codes "t"))) (block_lines (codes "z")))) ∷ [])) ∷  -- further-152
    []

answers_8 : map (λ row. read_script row.0) rows_8 ≡ map (λ row. row.1) rows_8
unfolding line_len lines_from
answers_8 = refl

abbrev rows_9 : List (List ℕ × Result (List Step) ℕ)
rows_9 =
    (codes "rule-remove include", Ok (on_line 1 (Apply (ExchangeLines (OfRuleRun None (codes "include")) [])) ∷ [])) ∷  -- further-154
    (codes "rule-replace t <<E\nifdef A\nt:\n\tx\nE", Ok (on_line 1 (Apply (ExchangeLines (OfRuleRun None (codes "t")) (block_lines (codes "ifdef A\nt:\n\tx")))) ∷ [])) ∷  -- further-155
    (codes "rule-replace t <<E\nt:\n\tx\nE", Ok (on_line 1 (Apply (ExchangeLines (OfRuleRun None (codes "t")) (block_lines (codes "t:\n\tx")))) ∷ [])) ∷  -- further-156
    (codes "nth 2 rule-replace t t:", Ok (on_line 1 (Apply (ExchangeLines (OfRuleRun (Some 2) (codes "t")) (block_lines (codes "t:")))) ∷ [])) ∷  -- further-158
    (codes "recipe-subst t x y", Ok (on_line 1 (Apply (EachLine (SubstRecipe None (codes "t") (codes "x") (codes "y")))) ∷ [])) ∷  -- further-159
    (codes "nth 2 recipe-subst t x y", Ok (on_line 1 (Apply (EachLine (SubstRecipe (Some 2) (codes "t") (codes "x") (codes "y")))) ∷ [])) ∷  -- further-160
    (codes "nth 3 recipe-subst t x y", Ok (on_line 1 (Apply (EachLine (SubstRecipe (Some 3) (codes "t") (codes "x") (codes "y")))) ∷ [])) ∷  -- further-161
    (codes "recipe-subst t b \"\"", Ok (on_line 1 (Apply (EachLine (SubstRecipe None (codes "t") (codes "b") []))) ∷ [])) ∷  -- further-163
    (codes "recipe-subst i \" -s\" \"\"", Ok (on_line 1 (Apply (EachLine (SubstRecipe None (codes "i") (codes " -s") []))) ∷ [])) ∷  -- further-164
    (codes "recipe-subst i x x", Ok (on_line 1 (Apply (EachLine (SubstRecipe None (codes "i") (codes "x") (codes "x")))) ∷ [])) ∷  -- further-165
    (codes "line-replace Y Z", Ok (on_line 1 (Apply (ExchangeLines (OfRun None (block_lines (codes "Y"))) (block_lines (codes "Z")))) ∷ [])) ∷  -- further-166
    (codes "line-replace Y <<E\nZ\nZ\nE", Ok (on_line 1 (Apply (ExchangeLines (OfRun None (block_lines (codes "Y"))) (block_lines (codes "Z\nZ")))) ∷ [])) ∷  -- further-167
    (codes "line-replace Y <<E\nZ\n\nE", Ok (on_line 1 (Apply (ExchangeLines (OfRun None (block_lines (codes "Y"))) (block_lines (codes "Z\n")))) ∷ [])) ∷  -- further-169
    (codes "line-replace X \"\"", Ok (on_line 1 (Apply (ExchangeLines (OfRun None (block_lines (codes "X"))) (block_lines []))) ∷ [])) ∷  -- further-170
    (codes "line-replace X <<E\nY = 1 \\\n\nE", Ok (on_line 1 (Apply (ExchangeLines (OfRun None (block_lines (codes "X"))) (block_lines (codes "Y = 1 \\\n")))) ∷ [])) ∷  -- further-171
    (codes "rule-replace a <<E\na:\n\ty\nE", Ok (on_line 1 (Apply (ExchangeLines (OfRuleRun None (codes "a")) (block_lines (codes "a:\n\ty")))) ∷ [])) ∷  -- further-172
    (codes "line-remove Y", Ok (on_line 1 (Apply (ExchangeLines (OfRun None (block_lines (codes "Y"))) [])) ∷ [])) ∷  -- further-173
    (codes "insert bottom Z", Ok (on_line 1 (Apply (ExchangeLines (AtPlace Bottom) (block_lines (codes "Z")))) ∷ [])) ∷  -- further-174
    (codes "insert top \"\"", Ok (on_line 1 (Apply (ExchangeLines (AtPlace Top) (block_lines []))) ∷ [])) ∷  -- further-176
    (codes "line-remove <<E\nX\nX\nE", Ok (on_line 1 (Apply (ExchangeLines (OfRun None (block_lines (codes "X\nX"))) [])) ∷ [])) ∷  -- further-178
    (codes "insert after-line a \"\"", Ok (on_line 1 (Apply (ExchangeLines (AfterRun None (block_lines (codes "a"))) (block_lines []))) ∷ [])) ∷  -- further-179
    (codes "insert bottom \"X = 1\"", Ok (on_line 1 (Apply (ExchangeLines (AtPlace Bottom) (block_lines (codes "X = 1")))) ∷ [])) ∷  -- further-180
    (codes "line-remove a:", Ok (on_line 1 (Apply (ExchangeLines (OfRun None (block_lines (codes "a:"))) [])) ∷ [])) ∷  -- further-181
    (codes "insert after-line \"\tx\" b:", Ok (on_line 1 (Apply (ExchangeLines (AfterRun None (block_lines (codes "\tx"))) (block_lines (codes "b:")))) ∷ [])) ∷  -- further-182
    (codes "rule top a : b", Ok (on_line 1 (Apply (AddLine Top (NewRule (codes "a") Single (codes "b")))) ∷ [])) ∷  -- further-183
    (codes "insert top a:", Ok (on_line 1 (Apply (ExchangeLines (AtPlace Top) (block_lines (codes "a:")))) ∷ [])) ∷  -- further-184
    (codes "line-replace \"X = 1\" <<E\nifdef B\nX = 1\nendif\nE", Ok (on_line 1 (Apply (ExchangeLines (OfRun None (block_lines (codes "X = 1"))) (block_lines (codes "ifdef B\nX = 1\nendif")))) ∷ [])) ∷  -- further-185
    (codes "rule after-last-var X b : c", Ok (on_line 1 (Apply (AddLine (AfterLastVar (codes "X")) (NewRule (codes "b") Single (codes "c")))) ∷ [])) ∷  -- further-187
    (codes "insert top \"<<E\"\n# x", Ok (on_line 1 (Apply (ExchangeLines (AtPlace Top) (block_lines (codes "<<E")))) ∷ [])) ∷  -- further-189
    (codes "insert top <<E-F", Ok (on_line 1 (Apply (ExchangeLines (AtPlace Top) (block_lines (codes "<<E-F")))) ∷ [])) ∷  -- further-190
    (codes "insert top <<E\n# c\nset X\nE \nE", Ok (on_line 1 (Apply (ExchangeLines (AtPlace Top) (block_lines (codes "# c\nset X\nE ")))) ∷ [])) ∷  -- further-191
    (codes "insert top <<E\r\nx\r\nE\r\n", Ok (on_line 1 (Apply (ExchangeLines (AtPlace Top) (block_lines (codes "x")))) ∷ [])) ∷  -- further-192
    (codes "insert after-rule <<E \"b:\"", Ok (on_line 1 (Apply (ExchangeLines (AtPlace (AfterRule None (codes "<<E"))) (block_lines (codes "b:")))) ∷ [])) ∷  -- further-193
    (codes "set X <<E", Ok (on_line 1 (Apply (ChangeValue (One None) (codes "X") (edits.Set (codes "<<E")))) ∷ [])) ∷  -- further-194
    (codes "insert top <<E\na\\\n\nE", Ok (on_line 1 (Apply (ExchangeLines (AtPlace Top) (block_lines (codes "a\\\n")))) ∷ [])) ∷  -- further-195
    (codes "insert top <<E\na\\\nE", Ok (on_line 1 (Apply (ExchangeLines (AtPlace Top) (block_lines (codes "a\\")))) ∷ [])) ∷  -- further-196
    (codes "insert before-line <<E x\na\\\nE", Ok (on_line 1 (Apply (ExchangeLines (BeforeRun None (block_lines (codes "a\\"))) (block_lines (codes "x")))) ∷ [])) ∷  -- further-197
    (codes "line-remove <<E\na\\\nE", Ok (on_line 1 (Apply (ExchangeLines (OfRun None (block_lines (codes "a\\"))) [])) ∷ [])) ∷  -- further-198
    (codes "rule-replace a& x", Ok (on_line 1 (Apply (ExchangeLines (OfRuleRun None (codes "a&")) (block_lines (codes "x")))) ∷ [])) ∷  -- further-199
    (codes "insert top <<E\na\rb\nE", Ok (on_line 1 (Apply (ExchangeLines (AtPlace Top) (block_lines (codes "a\rb")))) ∷ [])) ∷  -- further-200
    (codes "nth 1 insert after-rule a x", Ok (on_line 1 (Apply (ExchangeLines (AtPlace (AfterRule (Some 1) (codes "a"))) (block_lines (codes "x")))) ∷ [])) ∷  -- further-201
    (codes "nth 1 insert before-line \"X = 1\" x", Ok (on_line 1 (Apply (ExchangeLines (BeforeRun (Some 1) (block_lines (codes "X = 1"))) (block_lines (codes "x")))) ∷ [])) ∷  -- further-202
    (codes "line-replace X <<E\nX\nX\nE", Ok (on_line 1 (Apply (ExchangeLines (OfRun None (block_lines (codes "X"))) (block_lines (codes "X\nX")))) ∷ [])) ∷  -- further-203
    (codes "nth 1 line-replace X <<E\nX\nX\nE", Ok (on_line 1 (Apply (ExchangeLines (OfRun (Some 1) (block_lines (codes "X"))) (block_lines (codes "X\nX")))) ∷ [])) ∷  -- further-206
    (codes "nth 3 line-replace X <<E\nX\nX\nE", Ok (on_line 1 (Apply (ExchangeLines (OfRun (Some 3) (block_lines (codes "X"))) (block_lines (codes "X\nX")))) ∷ [])) ∷  -- further-207
    (codes "nth 4 line-replace X <<E\nX\nX\nE", Ok (on_line 1 (Apply (ExchangeLines (OfRun (Some 4) (block_lines (codes "X"))) (block_lines (codes "X\nX")))) ∷ [])) ∷  -- further-208
    (codes "line-replace X X", Ok (on_line 1 (Apply (ExchangeLines (OfRun None (block_lines (codes "X"))) (block_lines (codes "X")))) ∷ [])) ∷  -- further-209
    (codes "line-replace Y <<E\nX\nX\nE", Ok (on_line 1 (Apply (ExchangeLines (OfRun None (block_lines (codes "Y"))) (block_lines (codes "X\nX")))) ∷ [])) ∷  -- further-210
    (codes "nth 2 line-replace \"X = 1\" <<E\nifdef A\nX = 1\nendif\nE", Ok (on_line 1 (Apply (ExchangeLines (OfRun (Some 2) (block_lines (codes "X = 1"))) (block_lines (codes "ifdef A\nX = 1\nendif")))) ∷ [])) ∷  -- further-212
    (codes "line-replace a <<E\na\nb\nE", Ok (on_line 1 (Apply (ExchangeLines (OfRun None (block_lines (codes "a"))) (block_lines (codes "a\nb")))) ∷ [])) ∷  -- further-213
    []

answers_9 : map (λ row. read_script row.0) rows_9 ≡ map (λ row. row.1) rows_9
unfolding line_len lines_from
answers_9 = refl

abbrev rows_10 : List (List ℕ × Result (List Step) ℕ)
rows_10 =
    (codes "line-replace <<O <<E\nX\nX\nO\nX\nX\nX\nE", Ok (on_line 1 (Apply (ExchangeLines (OfRun None (block_lines (codes "X\nX"))) (block_lines (codes "X\nX\nX")))) ∷ [])) ∷  -- further-214
    (codes "line-replace <<O <<E\nX\nX\nO\nX\nX\nE", Ok (on_line 1 (Apply (ExchangeLines (OfRun None (block_lines (codes "X\nX"))) (block_lines (codes "X\nX")))) ∷ [])) ∷  -- further-215
    (codes "insert after-line \"# a\" <<E\n# a\n# b\nE", Ok (on_line 1 (Apply (ExchangeLines (AfterRun None (block_lines (codes "# a"))) (block_lines (codes "# a\n# b")))) ∷ [])) ∷  -- further-218
    (codes "insert before-line \"# a\" <<E\n# a\n# b\nE", Ok (on_line 1 (Apply (ExchangeLines (BeforeRun None (block_lines (codes "# a"))) (block_lines (codes "# a\n# b")))) ∷ [])) ∷  -- further-219
    (codes "insert bottom <<E\n# a\n# b\nE", Ok (on_line 1 (Apply (ExchangeLines (AtPlace Bottom) (block_lines (codes "# a\n# b")))) ∷ [])) ∷  -- further-220
    (codes "insert after-rule a <<E\n\tx\n# n\nE", Ok (on_line 1 (Apply (ExchangeLines (AtPlace (AfterRule None (codes "a"))) (block_lines (codes "\tx\n# n")))) ∷ [])) ∷  -- further-222
    (codes "insert after-last-var X <<E\nX = 2\n# n\nE", Ok (on_line 1 (Apply (ExchangeLines (AtPlace (AfterLastVar (codes "X"))) (block_lines (codes "X = 2\n# n")))) ∷ [])) ∷  -- further-223
    (codes "assign after-last-var X X = 2", Ok (on_line 1 (Apply (AddLine (AfterLastVar (codes "X")) (NewAssign (codes "X") Recursive (codes "2")))) ∷ [])) ∷  -- further-224
    (codes "insert after-var F <<E\nF = a \\\n b\nY\nE", Ok (on_line 1 (Apply (ExchangeLines (AtPlace (AfterVar None (codes "F"))) (block_lines (codes "F = a \\\n b\nY")))) ∷ [])) ∷  -- further-225
    (codes "insert bottom <<E\nX\nY\nE", Ok (on_line 1 (Apply (ExchangeLines (AtPlace Bottom) (block_lines (codes "X\nY")))) ∷ [])) ∷  -- further-226
    (codes "insert bottom <<E\nZ\nE", Ok (on_line 1 (Apply (ExchangeLines (AtPlace Bottom) (block_lines (codes "Z")))) ∷ [])) ∷  -- further-227
    (codes "rule-replace a <<E\na b:\n\tx\nE", Ok (on_line 1 (Apply (ExchangeLines (OfRuleRun None (codes "a")) (block_lines (codes "a b:\n\tx")))) ∷ [])) ∷  -- further-228
    (codes "rule-replace a <<E\na:\n\tx\nelse\n\ty\nE", Ok (on_line 1 (Apply (ExchangeLines (OfRuleRun None (codes "a")) (block_lines (codes "a:\n\tx\nelse\n\ty")))) ∷ [])) ∷  -- further-229
    (codes "rule-replace a <<E\na:\n\tx\n\n# n\nE", Ok (on_line 1 (Apply (ExchangeLines (OfRuleRun None (codes "a")) (block_lines (codes "a:\n\tx\n\n# n")))) ∷ [])) ∷  -- further-230
    (codes "rule-replace a <<E\na:\n\tx\n\tx\nE", Ok (on_line 1 (Apply (ExchangeLines (OfRuleRun None (codes "a")) (block_lines (codes "a:\n\tx\n\tx")))) ∷ [])) ∷  -- further-231
    (codes "insert after-rule a <<E\nifdef A\n\tx\nE", Ok (on_line 1 (Apply (ExchangeLines (AtPlace (AfterRule None (codes "a"))) (block_lines (codes "ifdef A\n\tx")))) ∷ [])) ∷  -- further-232
    (codes "rule after-rule a b : c", Ok (on_line 1 (Apply (AddLine (AfterRule None (codes "a")) (NewRule (codes "b") Single (codes "c")))) ∷ [])) ∷  -- further-233
    (codes "add-before S a b", Ok (on_line 1 (Apply (ChangeLine None (codes "S") (edits.InsertWord Before (codes "a") (codes "b")))) ∷ [])) ∷  -- further-234
    (codes "add-before S a c", Ok (on_line 1 (Apply (ChangeLine None (codes "S") (edits.InsertWord Before (codes "a") (codes "c")))) ∷ [])) ∷  -- further-235
    (codes "add-before S c b", Ok (on_line 1 (Apply (ChangeLine None (codes "S") (edits.InsertWord Before (codes "c") (codes "b")))) ∷ [])) ∷  -- further-236
    (codes "set-if X a \"\"", Ok (on_line 1 (Apply (ChangeValue (One None) (codes "X") (edits.SetIf (codes "a") []))) ∷ [])) ∷  -- further-237
    (codes "line-replace <<A X\n\nA\n", Ok (on_line 1 (Apply (ExchangeLines (OfRun None (block_lines [])) (block_lines (codes "X")))) ∷ [])) ∷  -- further-248
    (codes "recipe-replace a <<E x", Ok (on_line 1 (Apply (SetRecipe None (codes "a") (ByText (codes "<<E")) (codes "x"))) ∷ [])) ∷  -- further-249
    (codes "rename <<E b", Ok (on_line 1 (Apply (RenameTarget (codes "<<E") (codes "b"))) ∷ [])) ∷  -- further-250
    (codes "insert bottom <<E\n\ty\nZ = 1\nE", Ok (on_line 1 (Apply (ExchangeLines (AtPlace Bottom) (block_lines (codes "\ty\nZ = 1")))) ∷ [])) ∷  -- further-251
    (codes "insert after-line endef Y", Ok (on_line 1 (Apply (ExchangeLines (AfterRun None (block_lines (codes "endef"))) (block_lines (codes "Y")))) ∷ [])) ∷  -- further-252
    (codes "insert bottom \"\"", Ok (on_line 1 (Apply (ExchangeLines (AtPlace Bottom) (block_lines []))) ∷ [])) ∷  -- further-254
    (codes "\"nth\" \"2\" rule-replace c <<E\nc:\n\ttrue\nE", Ok (on_line 1 (Apply (ExchangeLines (OfRuleRun (Some 2) (codes "c")) (block_lines (codes "c:\n\ttrue")))) ∷ [])) ∷  -- further-256
    (codes "assign  \"after-rule\"  c  X  \"!=\"  \"\"", Ok (on_line 1 (Apply (AddLine (AfterRule None (codes "c")) (NewAssign (codes "X") Shell []))) ∷ [])) ∷  -- further-257
    (codes "assign after-last-var \"F\" override ::= \"\"", Ok (on_line 1 (Apply (AddLine (AfterLastVar (codes "F")) (NewAssign (codes "override") PosixSimple []))) ∷ [])) ∷  -- further-258
    (codes "\"nth\" 2 subst F -g $$", Ok (on_line 1 (Apply (ChangeLine (Some 2) (codes "F") (edits.Substitute (codes "-g") (codes "$$")))) ∷ [])) ∷  -- further-259
    (codes " \"operator\" X :=", Ok (on_line 1 (Apply (ChangeLine None (codes "X") (edits.SetOperator Simple))) ∷ [])) ∷  -- further-260
    (codes "insert before-line \"  b\" <<E\nendef\ndefine D\nE", Ok (on_line 1 (Apply (ExchangeLines (BeforeRun None (block_lines (codes "  b"))) (block_lines (codes "endef\ndefine D")))) ∷ [])) ∷  -- further-261
    (codes "nth 001 insert \"before-line\" <<_ <<E\n\ta \\\n\tb\n_\nF = -g\ndefine .RECIPEPREFIX\nE", Ok (on_line 1 (Apply (ExchangeLines (BeforeRun (Some 1) (block_lines (codes "\ta \\\n\tb"))) (block_lines (codes "F = -g\ndefine .RECIPEPREFIX")))) ∷ [])) ∷  -- further-262
    (codes "nth 1 add-after \"X\" \"$(a b)\" \"-O3\"", Ok (on_line 1 (Apply (ChangeLine (Some 1) (codes "X") (edits.InsertWord After (codes "$(a b)") (codes "-O3")))) ∷ [])) ∷  -- further-263
    (codes "nth 0 add-after F $$ -O3", Ok (on_line 1 (Apply (ChangeLine (Some 0) (codes "F") (edits.InsertWord After (codes "$$") (codes "-O3")))) ∷ [])) ∷  -- further-264
    (codes "rule-remove i", Ok (on_line 1 (Apply (ExchangeLines (OfRuleRun None (codes "i")) [])) ∷ [])) ∷  -- further-265
    (codes "nth  001  rule  after-rule  d  x.o  \"::\"  \"\"", Ok (on_line 1 (Apply (AddLine (AfterRule (Some 1) (codes "d")) (NewRule (codes "x.o") Double []))) ∷ [])) ∷  -- further-266
    (codes "\"assign\" after-var \"F\" F \"=\" |", Ok (on_line 1 (Apply (AddLine (AfterVar None (codes "F")) (NewAssign (codes "F") Recursive (codes "|")))) ∷ [])) ∷  -- further-267
    (codes "nth 2 recipe-subst a cc \"aa\"", Ok (on_line 1 (Apply (EachLine (SubstRecipe (Some 2) (codes "a") (codes "cc") (codes "aa")))) ∷ [])) ∷  -- further-268
    (codes "recipes-subst true $(", Ok (on_line 1 (Apply (EachLine (SubstRecipes (codes "true") (codes "$(")))) ∷ [])) ∷  -- further-269
    (codes "nth 3 add-after F -g x.c", Ok (on_line 1 (Apply (ChangeLine (Some 3) (codes "F") (edits.InsertWord After (codes "-g") (codes "x.c")))) ∷ [])) ∷  -- further-270
    (codes " nth\t002\t\"add-before\"\ta.b\ta\t-O3", Ok (on_line 1 (Apply (ChangeLine (Some 2) (codes "a.b") (edits.InsertWord Before (codes "a") (codes "-O3")))) ∷ [])) ∷  -- further-271
    (codes " insert\tafter-rule\tc\t<<E\nF = a \\\n  b\nE", Ok (on_line 1 (Apply (ExchangeLines (AtPlace (AfterRule None (codes "c"))) (block_lines (codes "F = a \\\n  b")))) ∷ [])) ∷  -- further-272
    (codes "all\tsubst\ta.b\t\"$(s (b) a)\"\t\"x=1\"", Ok (on_line 1 (Apply (EachLine (ChangeEach (codes "a.b") (edits.Substitute (codes "$(s (b) a)") (codes "x=1"))))) ∷ [])) ∷  -- further-273
    (codes "\"rule\" after-rule c c :: \"a b\"", Ok (on_line 1 (Apply (AddLine (AfterRule None (codes "c")) (NewRule (codes "c") Double (codes "a b")))) ∷ [])) ∷  -- further-274
    (codes "insert after-last-var F <<9\n# a \\\n b\n9", Ok (on_line 1 (Apply (ExchangeLines (AtPlace (AfterLastVar (codes "F"))) (block_lines (codes "# a \\\n b")))) ∷ [])) ∷  -- further-275
    (codes "nth \"4294967295\" prepend \"F\" \"a:b $\\\\x\"", Ok (on_line 1 (Apply (ChangeLine (Some 4294967295) (codes "F") (edits.Prepend (codes "a:b $\\x")))) ∷ [])) ∷  -- further-276
    (codes "add-before a.b = \"$(new a)\"", Ok (on_line 1 (Apply (ChangeLine None (codes "a.b") (edits.InsertWord Before (codes "=") (codes "$(new a)")))) ∷ [])) ∷  -- further-277
    (codes "insert before-line <<end <<O1\n\ta\n\tb\nend\na:\nifdef A\nendif\nO1", Ok (on_line 1 (Apply (ExchangeLines (BeforeRun None (block_lines (codes "\ta\n\tb"))) (block_lines (codes "a:\nifdef A\nendif")))) ∷ [])) ∷  -- further-279
    []

answers_10 : map (λ row. read_script row.0) rows_10 ≡ map (λ row. row.1) rows_10
unfolding line_len lines_from
answers_10 = refl

abbrev rows_11 : List (List ℕ × Result (List Step) ℕ)
rows_11 =
    (codes "values-subst a \"\"", Ok (on_line 1 (Apply (EachLine (SubstValues (codes "a") []))) ∷ [])) ∷  -- further-280
    (codes "assign after-rule c X = \"$x\"", Ok (on_line 1 (Apply (AddLine (AfterRule None (codes "c")) (NewAssign (codes "X") Recursive (codes "$x")))) ∷ [])) ∷  -- further-281
    (codes "uncomment Y", Ok (on_line 1 (Apply (SwitchLine Uncomment None (codes "Y"))) ∷ [])) ∷  -- further-282
    (codes "\"insert\" bottom <<O1\nendif\nifdef B\nO1", Ok (on_line 1 (Apply (ExchangeLines (AtPlace Bottom) (block_lines (codes "endif\nifdef B")))) ∷ [])) ∷  -- further-283
    (codes "values-subst \"b\" ab", Ok (on_line 1 (Apply (EachLine (SubstValues (codes "b") (codes "ab")))) ∷ [])) ∷  -- further-284
    (codes "\"rule\" bottom c : \"a\"", Ok (on_line 1 (Apply (AddLine Bottom (NewRule (codes "c") Single (codes "a")))) ∷ [])) ∷  -- further-285
    (codes "rule bottom d \"::\" \"a\"", Ok (on_line 1 (Apply (AddLine Bottom (NewRule (codes "d") Double (codes "a")))) ∷ [])) ∷  -- further-286
    (codes "nth 2 rule \"after-rule\" c c :: \"\"", Ok (on_line 1 (Apply (AddLine (AfterRule (Some 2) (codes "c")) (NewRule (codes "c") Double []))) ∷ [])) ∷  -- further-287
    (codes "\"recipes-subst\" a -O3", Ok (on_line 1 (Apply (EachLine (SubstRecipes (codes "a") (codes "-O3")))) ∷ [])) ∷  -- further-288
    (codes "\"insert\" after-last-var F <<X\na:\nifdef A\nendif\nX", Ok (on_line 1 (Apply (ExchangeLines (AtPlace (AfterLastVar (codes "F"))) (block_lines (codes "a:\nifdef A\nendif")))) ∷ [])) ∷  -- further-289
    (codes "set-if \"\" \"\" \"x$(a  b) x$(a  b)\"", Ok (on_line 1 (Apply (ChangeValue (One None) [] (edits.SetIf [] (codes "x$(a  b) x$(a  b)")))) ∷ [])) ∷  -- further-290
    (codes "recipe-subst i y yy", Ok (on_line 1 (Apply (EachLine (SubstRecipe None (codes "i") (codes "y") (codes "yy")))) ∷ [])) ∷  -- further-291
    (codes "assign bottom \"F\" ::= \"-g b\"", Ok (on_line 1 (Apply (AddLine Bottom (NewAssign (codes "F") PosixSimple (codes "-g b")))) ∷ [])) ∷  -- further-292
    (codes "set-if F \"b = a:b\" \"\"", Ok (on_line 1 (Apply (ChangeValue (One None) (codes "F") (edits.SetIf (codes "b = a:b") []))) ∷ [])) ∷  -- further-293
    (codes "\"line-remove\"  <<_\nc&: a\nc:: ;\n_", Ok (on_line 1 (Apply (ExchangeLines (OfRun None (block_lines (codes "c&: a\nc:: ;"))) [])) ∷ [])) ∷  -- further-294
    (codes "rule  after-rule  c  c  :  \"\"", Ok (on_line 1 (Apply (AddLine (AfterRule None (codes "c")) (NewRule (codes "c") Single []))) ∷ [])) ∷  -- further-295
    (codes "recipe-subst c c \"\"", Ok (on_line 1 (Apply (EachLine (SubstRecipe None (codes "c") (codes "c") []))) ∷ [])) ∷  -- further-296
    (codes "nth 2 comment-out F", Ok (on_line 1 (Apply (SwitchLine CommentOut (Some 2) (codes "F"))) ∷ [])) ∷  -- further-297
    (codes "all \"prepend\" F \"a\"", Ok (on_line 1 (Apply (EachLine (ChangeEach (codes "F") (edits.Prepend (codes "a"))))) ∷ [])) ∷  -- further-298
    (codes "nth  2  comment-out  F", Ok (on_line 1 (Apply (SwitchLine CommentOut (Some 2) (codes "F"))) ∷ [])) ∷  -- further-300
    (codes "recipe-subst c b \"\"", Ok (on_line 1 (Apply (EachLine (SubstRecipe None (codes "c") (codes "b") []))) ∷ [])) ∷  -- further-301
    (codes "prepend X $(u", Ok (on_line 1 (Apply (ChangeLine None (codes "X") (edits.Prepend (codes "$(u")))) ∷ [])) ∷  -- further-302
    (codes "rule-replace a \"F += a\"", Ok (on_line 1 (Apply (ExchangeLines (OfRuleRun None (codes "a")) (block_lines (codes "F += a")))) ∷ [])) ∷  -- further-303
    (codes "insert  before-var  \"a.b\"  <<end\nX = 1\n\nend", Ok (on_line 1 (Apply (ExchangeLines (AtPlace (BeforeVar None (codes "a.b"))) (block_lines (codes "X = 1\n")))) ∷ [])) ∷  -- further-304
    (codes "replace F ; a", Ok (on_line 1 (Apply (ChangeLine None (codes "F") (edits.ReplaceWord (codes ";") (codes "a")))) ∷ [])) ∷  -- further-305
    (codes "nth 4294967295 rule-remove c", Ok (on_line 1 (Apply (ExchangeLines (OfRuleRun (Some 4294967295) (codes "c")) [])) ∷ [])) ∷  -- further-306
    (codes "rule-remove c", Ok (on_line 1 (Apply (ExchangeLines (OfRuleRun None (codes "c")) [])) ∷ [])) ∷  -- further-307
    (codes "nth\t2\t\"line-remove\"\t<<_\na.b = a\tb\n_", Ok (on_line 1 (Apply (ExchangeLines (OfRun (Some 2) (block_lines (codes "a.b = a\tb"))) [])) ∷ [])) ∷  -- further-308
    (codes "line-replace \"\tababa aaa\" <<X\nX = 1\n\nX", Ok (on_line 1 (Apply (ExchangeLines (OfRun None (block_lines (codes "\tababa aaa"))) (block_lines (codes "X = 1\n")))) ∷ [])) ∷  -- further-309
    (codes "values-subst a \"/usr\"", Ok (on_line 1 (Apply (EachLine (SubstValues (codes "a") (codes "/usr")))) ∷ [])) ∷  -- further-310
    (codes "rule-replace\t\"c\"\t<<end\ntX = 1\n\r\nend", Ok (on_line 1 (Apply (ExchangeLines (OfRuleRun None (codes "c")) (block_lines (codes "tX = 1\n")))) ∷ [])) ∷  -- further-311
    (codes "add-before F \"a$ \" \"=\"", Ok (on_line 1 (Apply (ChangeLine None (codes "F") (edits.InsertWord Before (codes "a$ ") (codes "=")))) ∷ [])) ∷  -- further-312
    (codes "line-remove <<_\ninclude a.mk\n# n\n_", Ok (on_line 1 (Apply (ExchangeLines (OfRun None (block_lines (codes "include a.mk\n# n"))) [])) ∷ [])) ∷  -- further-313
    (codes "line-remove <<9\nX == $\\\n\n9", Ok (on_line 1 (Apply (ExchangeLines (OfRun None (block_lines (codes "X == $\\\n"))) [])) ∷ [])) ∷  -- further-314
    (codes "line-remove  <<9\nc: ; true\n\t\ttrue\n\trm -f x\n9", Ok (on_line 1 (Apply (ExchangeLines (OfRun None (block_lines (codes "c: ; true\n\t\ttrue\n\trm -f x"))) [])) ∷ [])) ∷  -- further-315
    (codes "insert after-rule \"a b\" \"\tfor f in x; do \\\\\"", Ok (on_line 1 (Apply (ExchangeLines (AtPlace (AfterRule None (codes "a b"))) (block_lines (codes "\tfor f in x; do \\")))) ∷ [])) ∷  -- further-316
    (codes "\"nth\" \"002\" assign \"before-rule\" c \"F\" :::= -O2", Ok (on_line 1 (Apply (AddLine (BeforeRule (Some 2) (codes "c")) (NewAssign (codes "F") Immediate (codes "-O2")))) ∷ [])) ∷  -- further-317
    (codes "all prepend F \"b x$(a  b)\"", Ok (on_line 1 (Apply (EachLine (ChangeEach (codes "F") (edits.Prepend (codes "b x$(a  b)"))))) ∷ [])) ∷  -- further-318
    (codes "assign before-rule \"a b\" F = \"b b\"", Ok (on_line 1 (Apply (AddLine (BeforeRule None (codes "a b")) (NewAssign (codes "F") Recursive (codes "b b")))) ∷ [])) ∷  -- further-319
    (codes "\"replace\" X x=1 \"|\"", Ok (on_line 1 (Apply (ChangeLine None (codes "X") (edits.ReplaceWord (codes "x=1") (codes "|")))) ∷ [])) ∷  -- further-320
    (codes "recipe-subst d b $(y)", Ok (on_line 1 (Apply (EachLine (SubstRecipe None (codes "d") (codes "b") (codes "$(y)")))) ∷ [])) ∷  -- further-321
    (codes " \"nth\" \"1\" recipe-subst i \"true\" \"\"", Ok (on_line 1 (Apply (EachLine (SubstRecipe (Some 1) (codes "i") (codes "true") []))) ∷ [])) ∷  -- further-322
    (codes "assign  top  \"X\"  !=  \"\"", Ok (on_line 1 (Apply (AddLine Top (NewAssign (codes "X") Shell []))) ∷ [])) ∷  -- further-323
    (codes "rule-replace a <<end\n\n\nend", Ok (on_line 1 (Apply (ExchangeLines (OfRuleRun None (codes "a")) (block_lines (codes "\n")))) ∷ [])) ∷  -- further-324
    (codes "depend-replace i \"b\" x.o", Ok (on_line 1 (Apply (ChangePrereqs None (codes "i") (ReplacePrereq (codes "b") (codes "x.o")))) ∷ [])) ∷  -- further-325
    (codes " line-remove <<end\nd c: # c\n>\nend", Ok (on_line 1 (Apply (ExchangeLines (OfRun None (block_lines (codes "d c: # c\n>"))) [])) ∷ [])) ∷  -- further-326
    (codes "\"all\"\toperator\tX\t\"::=\"", Ok (on_line 1 (Apply (EachLine (ChangeEach (codes "X") (edits.SetOperator PosixSimple)))) ∷ [])) ∷  -- further-327
    (codes "recipes-subst \"\" \"x\"", Ok (on_line 1 (Apply (EachLine (SubstRecipes [] (codes "x")))) ∷ [])) ∷  -- further-328
    (codes "insert\tafter-last-var\t\"F\"\t<<EOF\nendef\ndefine D\nEOF", Ok (on_line 1 (Apply (ExchangeLines (AtPlace (AfterLastVar (codes "F"))) (block_lines (codes "endef\ndefine D")))) ∷ [])) ∷  -- further-329
    (codes " operator \"F\" !=", Ok (on_line 1 (Apply (ChangeLine None (codes "F") (edits.SetOperator Shell))) ∷ [])) ∷  -- further-330
    []

answers_11 : map (λ row. read_script row.0) rows_11 ≡ map (λ row. row.1) rows_11
unfolding line_len lines_from
answers_11 = refl

abbrev rows_12 : List (List ℕ × Result (List Step) ℕ)
rows_12 =
    (codes "rule-replace x.o <<X\nX = ababa\nX", Ok (on_line 1 (Apply (ExchangeLines (OfRuleRun None (codes "x.o")) (block_lines (codes "X = ababa")))) ∷ [])) ∷  -- further-331
    (codes "insert  after-last-var  \"F\"  <<O1\nF = a \\\n  b\nO1", Ok (on_line 1 (Apply (ExchangeLines (AtPlace (AfterLastVar (codes "F"))) (block_lines (codes "F = a \\\n  b")))) ∷ [])) ∷  -- further-332
    (codes "line-remove \"\"", Ok (on_line 1 (Apply (ExchangeLines (OfRun None (block_lines [])) [])) ∷ [])) ∷  -- further-333
    (codes "all \"replace\" $(X) \"-O2\" ${c}", Ok (on_line 1 (Apply (EachLine (ChangeEach (codes "$(X)") (edits.ReplaceWord (codes "-O2") (codes "${c}"))))) ∷ [])) ∷  -- further-334
    (codes "comment-out F", Ok (on_line 1 (Apply (SwitchLine CommentOut None (codes "F"))) ∷ [])) ∷  -- further-337
    (codes "all set-if override \"-g\" \"\"", Ok (on_line 1 (Apply (ChangeValue Every (codes "override") (edits.SetIf (codes "-g") []))) ∷ [])) ∷  -- further-338
    (codes "recipe-subst a e \" \"", Ok (on_line 1 (Apply (EachLine (SubstRecipe None (codes "a") (codes "e") (codes " ")))) ∷ [])) ∷  -- further-339
    (codes "\"nth\" 0 rule \"before-rule\" c include \":\" \"\"", Ok (on_line 1 (Apply (AddLine (BeforeRule (Some 0) (codes "c")) (NewRule (codes "include") Single []))) ∷ [])) ∷  -- further-340
    (codes "recipe-subst c true $(y)", Ok (on_line 1 (Apply (EachLine (SubstRecipe None (codes "c") (codes "true") (codes "$(y)")))) ∷ [])) ∷  -- further-341
    (codes "recipes-subst cc \"\"", Ok (on_line 1 (Apply (EachLine (SubstRecipes (codes "cc") []))) ∷ [])) ∷  -- further-342
    (codes "rule-replace \"d\" <<EOF\nx \\\n\nEOF", Ok (on_line 1 (Apply (ExchangeLines (OfRuleRun None (codes "d")) (block_lines (codes "x \\\n")))) ∷ [])) ∷  -- further-343
    (codes "rule after-last-var F c : \"\"", Ok (on_line 1 (Apply (AddLine (AfterLastVar (codes "F")) (NewRule (codes "c") Single []))) ∷ [])) ∷  -- further-344
    (codes "nth  \"2\"  rule-replace  c  <<end\nendif\n\nend", Ok (on_line 1 (Apply (ExchangeLines (OfRuleRun (Some 2) (codes "c")) (block_lines (codes "endif\n")))) ∷ [])) ∷  -- further-345
    (codes "rule-replace i <<E\ni:\nifdef A\n\tx\nendif\nE", Ok (on_line 1 (Apply (ExchangeLines (OfRuleRun None (codes "i")) (block_lines (codes "i:\nifdef A\n\tx\nendif")))) ∷ [])) ∷  -- further-346
    (codes "nth 0 subst override cc }", Ok (on_line 1 (Apply (ChangeLine (Some 0) (codes "override") (edits.Substitute (codes "cc") (codes "}")))) ∷ [])) ∷  -- further-347
    (codes "\"all\" subst X 1 \"$(y)\"", Ok (on_line 1 (Apply (EachLine (ChangeEach (codes "X") (edits.Substitute (codes "1") (codes "$(y)"))))) ∷ [])) ∷  -- further-348
    (codes "rule bottom c : \"a b\"", Ok (on_line 1 (Apply (AddLine Bottom (NewRule (codes "c") Single (codes "a b")))) ∷ [])) ∷  -- further-349
    (codes "line-remove <<end\n%.o: # c\nX = -g \\\n\nend", Ok (on_line 1 (Apply (ExchangeLines (OfRun None (block_lines (codes "%.o: # c\nX = -g \\\n"))) [])) ∷ [])) ∷  -- further-350
    (codes "rule\tbefore-var\t\"X\"\tc\t::\t\"a b\"", Ok (on_line 1 (Apply (AddLine (BeforeVar None (codes "X")) (NewRule (codes "c") Double (codes "a b")))) ∷ [])) ∷  -- further-351
    (codes "prepend F -g", Ok (on_line 1 (Apply (ChangeLine None (codes "F") (edits.Prepend (codes "-g")))) ∷ [])) ∷  -- further-352
    (codes "depend-replace d \"b\" d|", Ok (on_line 1 (Apply (ChangePrereqs None (codes "d") (ReplacePrereq (codes "b") (codes "d|")))) ∷ [])) ∷  -- further-353
    (codes "\"insert\" after-rule c <<X\nifdef A\nX", Ok (on_line 1 (Apply (ExchangeLines (AtPlace (AfterRule None (codes "c"))) (block_lines (codes "ifdef A")))) ∷ [])) ∷  -- further-354
    (codes "set-if \"F\" \"-O2 a:b $# a\" \"b a\"", Ok (on_line 1 (Apply (ChangeValue (One None) (codes "F") (edits.SetIf (codes "-O2 a:b $# a") (codes "b a")))) ∷ [])) ∷  -- further-355
    (codes "rule-replace\td\t<<end\nifneq (x,)\nd: ; true\nendif\nend", Ok (on_line 1 (Apply (ExchangeLines (OfRuleRun None (codes "d")) (block_lines (codes "ifneq (x,)\nd: ; true\nendif")))) ∷ [])) ∷  -- further-356
    (codes " nth \"3\" add-after F $x \"$(s (b) a)\"", Ok (on_line 1 (Apply (ChangeLine (Some 3) (codes "F") (edits.InsertWord After (codes "$x") (codes "$(s (b) a)")))) ∷ [])) ∷  -- further-357
    (codes "insert  before-line  <<O1  <<E\nX = -g a ;\nO1\nendif\n\t  cc $$f; \\\n\tfor f in x; do \\\nE", Ok (on_line 1 (Apply (ExchangeLines (BeforeRun None (block_lines (codes "X = -g a ;"))) (block_lines (codes "endif\n\t  cc $$f; \\\n\tfor f in x; do \\")))) ∷ [])) ∷  -- further-358
    (codes "recipes-subst b x", Ok (on_line 1 (Apply (EachLine (SubstRecipes (codes "b") (codes "x")))) ∷ [])) ∷  -- further-359
    (codes "all\tsubst\tF\t\"a\"\t\"a b\"", Ok (on_line 1 (Apply (EachLine (ChangeEach (codes "F") (edits.Substitute (codes "a") (codes "a b"))))) ∷ [])) ∷  -- further-360
    (codes "line-remove  <<O1\n# \\\n n\nO1", Ok (on_line 1 (Apply (ExchangeLines (OfRun None (block_lines (codes "# \\\n n"))) [])) ∷ [])) ∷  -- further-361
    (codes "nth 002 add-before override ! x.c", Ok (on_line 1 (Apply (ChangeLine (Some 2) (codes "override") (edits.InsertWord Before (codes "!") (codes "x.c")))) ∷ [])) ∷  -- further-363
    (codes "nth 5 replace F x= \"-g\"", Ok (on_line 1 (Apply (ChangeLine (Some 5) (codes "F") (edits.ReplaceWord (codes "x=") (codes "-g")))) ∷ [])) ∷  -- further-364
    (codes "\"set-if\" \"F\" \"aaa aaaa\" \"a  b\"", Ok (on_line 1 (Apply (ChangeValue (One None) (codes "F") (edits.SetIf (codes "aaa aaaa") (codes "a  b")))) ∷ [])) ∷  -- further-365
    (codes "\"recipe-subst\" \"a b\" zz ab", Ok (on_line 1 (Apply (EachLine (SubstRecipe None (codes "a b") (codes "zz") (codes "ab")))) ∷ [])) ∷  -- further-366
    (codes "rule \"after-last-var\" F c :: a", Ok (on_line 1 (Apply (AddLine (AfterLastVar (codes "F")) (NewRule (codes "c") Double (codes "a")))) ∷ [])) ∷  -- further-367
    (codes "assign \"bottom\" F = \"\"", Ok (on_line 1 (Apply (AddLine Bottom (NewAssign (codes "F") Recursive []))) ∷ [])) ∷  -- further-368
    (codes "rule-remove \"d\"", Ok (on_line 1 (Apply (ExchangeLines (OfRuleRun None (codes "d")) [])) ∷ [])) ∷  -- further-369
    (codes "rule bottom c : a", Ok (on_line 1 (Apply (AddLine Bottom (NewRule (codes "c") Single (codes "a")))) ∷ [])) ∷  -- further-370
    (codes " insert\tbefore-rule\tc\t<<end\nifdef A\nX = 1\nendif\nend", Ok (on_line 1 (Apply (ExchangeLines (AtPlace (BeforeRule None (codes "c"))) (block_lines (codes "ifdef A\nX = 1\nendif")))) ∷ [])) ∷  -- further-371
    (codes "line-remove  \"c: b& a x.o | b\"", Ok (on_line 1 (Apply (ExchangeLines (OfRun None (block_lines (codes "c: b& a x.o | b"))) [])) ∷ [])) ∷  -- further-372
    (codes "all subst \"F\" \"  \" $", Ok (on_line 1 (Apply (EachLine (ChangeEach (codes "F") (edits.Substitute (codes "  ") (codes "$"))))) ∷ [])) ∷  -- further-374
    (codes "\"comment-out\" $(X)", Ok (on_line 1 (Apply (SwitchLine CommentOut None (codes "$(X)"))) ∷ [])) ∷  -- further-375
    (codes "depend-replace c include b", Ok (on_line 1 (Apply (ChangePrereqs None (codes "c") (ReplacePrereq (codes "include") (codes "b")))) ∷ [])) ∷  -- further-376
    (codes "\"rule-replace\" \"c\" <<_\nx \\\n\n_", Ok (on_line 1 (Apply (ExchangeLines (OfRuleRun None (codes "c")) (block_lines (codes "x \\\n")))) ∷ [])) ∷  -- further-377
    (codes "\"nth\" 002 \"add-after\" F a -O3", Ok (on_line 1 (Apply (ChangeLine (Some 2) (codes "F") (edits.InsertWord After (codes "a") (codes "-O3")))) ∷ [])) ∷  -- further-378
    (codes "set-if F x= -g", Ok (on_line 1 (Apply (ChangeValue (One None) (codes "F") (edits.SetIf (codes "x=") (codes "-g")))) ∷ [])) ∷  -- further-379
    (codes "\"all\" subst X \" \\\\ b\t\" ab", Ok (on_line 1 (Apply (EachLine (ChangeEach (codes "X") (edits.Substitute (codes " \\ b\t") (codes "ab"))))) ∷ [])) ∷  -- further-380
    (codes "nth  3  \"prepend\"  \"F\"  |", Ok (on_line 1 (Apply (ChangeLine (Some 3) (codes "F") (edits.Prepend (codes "|")))) ∷ [])) ∷  -- further-381
    (codes "line-replace  <<_  <<EOF\nF\\\n::= b\t$(a b) \n_\n\tfor f in x; do \\\nEOF", Ok (on_line 1 (Apply (ExchangeLines (OfRun None (block_lines (codes "F\\\n::= b\t$(a b) "))) (block_lines (codes "\tfor f in x; do \\")))) ∷ [])) ∷  -- further-382
    (codes "insert after-last-var F \"tX = 1\"", Ok (on_line 1 (Apply (ExchangeLines (AtPlace (AfterLastVar (codes "F"))) (block_lines (codes "tX = 1")))) ∷ [])) ∷  -- further-383
    (codes "\"nth\" 2 operator X +=", Ok (on_line 1 (Apply (ChangeLine (Some 2) (codes "X") (edits.SetOperator Append))) ∷ [])) ∷  -- further-384
    []

answers_12 : map (λ row. read_script row.0) rows_12 ≡ map (λ row. row.1) rows_12
unfolding line_len lines_from
answers_12 = refl

abbrev rows_13 : List (List ℕ × Result (List Step) ℕ)
rows_13 =
    (codes "\"recipes-subst\" a\\\\ x", Ok (on_line 1 (Apply (EachLine (SubstRecipes (codes "a\\\\") (codes "x")))) ∷ [])) ∷  -- further-385
    (codes "\"assign\" \"after-last-var\" F F \":=\" \"x$(a  b)\"", Ok (on_line 1 (Apply (AddLine (AfterLastVar (codes "F")) (NewAssign (codes "F") Simple (codes "x$(a  b)")))) ∷ [])) ∷  -- further-386
    (codes "nth 003 \"subst\" F ; #", Ok (on_line 1 (Apply (ChangeLine (Some 3) (codes "F") (edits.Substitute (codes ";") (codes "#")))) ∷ [])) ∷  -- further-387
    (codes "operator F !=", Ok (on_line 1 (Apply (ChangeLine None (codes "F") (edits.SetOperator Shell))) ∷ [])) ∷  -- further-388
    (codes " \"values-subst\" -g -O3", Ok (on_line 1 (Apply (EachLine (SubstValues (codes "-g") (codes "-O3")))) ∷ [])) ∷  -- further-389
    (codes "rule after-last-var \"X\" c : \"\"", Ok (on_line 1 (Apply (AddLine (AfterLastVar (codes "X")) (NewRule (codes "c") Single []))) ∷ [])) ∷  -- further-390
    (codes "add-before F a \"$(new a)\"", Ok (on_line 1 (Apply (ChangeLine None (codes "F") (edits.InsertWord Before (codes "a") (codes "$(new a)")))) ∷ [])) ∷  -- further-391
    (codes " \"values-subst\" x=1 \"a b\"", Ok (on_line 1 (Apply (EachLine (SubstValues (codes "x=1") (codes "a b")))) ∷ [])) ∷  -- further-392
    (codes "values-subst  >  }", Ok (on_line 1 (Apply (EachLine (SubstValues (codes ">") (codes "}")))) ∷ [])) ∷  -- further-393
    (codes "\"all\" subst F \\ \"-O3\"", Ok (on_line 1 (Apply (EachLine (ChangeEach (codes "F") (edits.Substitute (codes "\\") (codes "-O3"))))) ∷ [])) ∷  -- further-394
    (codes " all replace F b =", Ok (on_line 1 (Apply (EachLine (ChangeEach (codes "F") (edits.ReplaceWord (codes "b") (codes "="))))) ∷ [])) ∷  -- further-395
    (codes "insert \"before-var\" F <<9\n\n\tfor f in x; do \\\n9", Ok (on_line 1 (Apply (ExchangeLines (AtPlace (BeforeVar None (codes "F"))) (block_lines (codes "\n\tfor f in x; do \\")))) ∷ [])) ∷  -- further-396
    (codes "nth\t0\t\"insert\"\t\"after-line\"\t<<EOF\t<<_\n# n\n\tfor f in x; do \\\n\t  cc $$f; \\\n\tdone\nEOF\nvpath %.c a\n_", Ok (on_line 1 (Apply (ExchangeLines (AfterRun (Some 0) (block_lines (codes "# n\n\tfor f in x; do \\\n\t  cc $$f; \\\n\tdone"))) (block_lines (codes "vpath %.c a")))) ∷ [])) ∷  -- further-397
    (codes " comment-out endefoverride", Ok (on_line 1 (Apply (SwitchLine CommentOut None (codes "endefoverride"))) ∷ [])) ∷  -- further-398
    (codes " values-subst \") -g -g a\" x", Ok (on_line 1 (Apply (EachLine (SubstValues (codes ") -g -g a") (codes "x")))) ∷ [])) ∷  -- further-399
    (codes "\"replace\"\t\"X\"\t1\t\"a\"", Ok (on_line 1 (Apply (ChangeLine None (codes "X") (edits.ReplaceWord (codes "1") (codes "a")))) ∷ [])) ∷  -- further-400
    (codes " all prepend F \"a$ b\"", Ok (on_line 1 (Apply (EachLine (ChangeEach (codes "F") (edits.Prepend (codes "a$ b"))))) ∷ [])) ∷  -- further-401
    (codes "assign  \"after-rule\"  c  X  \"!=\"  x=1", Ok (on_line 1 (Apply (AddLine (AfterRule None (codes "c")) (NewAssign (codes "X") Shell (codes "x=1")))) ∷ [])) ∷  -- further-402
    (codes "rule  \"bottom\"  x.o  \"::\"  \"a\"", Ok (on_line 1 (Apply (AddLine Bottom (NewRule (codes "x.o") Double (codes "a")))) ∷ [])) ∷  -- further-403
    (codes "rule top \"c\" \":\" a", Ok (on_line 1 (Apply (AddLine Top (NewRule (codes "c") Single (codes "a")))) ∷ [])) ∷  -- further-404
    (codes "\"values-subst\" \"= -g\" \"\"", Ok (on_line 1 (Apply (EachLine (SubstValues (codes "= -g") []))) ∷ [])) ∷  -- further-405
    (codes "values-subst\ta\r\t\"ab\"", Ok (on_line 1 (Apply (EachLine (SubstValues (codes "a\r") (codes "ab")))) ∷ [])) ∷  -- further-406
    (codes "nth 002 \"prepend\" \"X\" \"x=1\"", Ok (on_line 1 (Apply (ChangeLine (Some 2) (codes "X") (edits.Prepend (codes "x=1")))) ∷ [])) ∷  -- further-407
    (codes "nth\t2\trule\tafter-var\tF\tc\t::\t\"\"", Ok (on_line 1 (Apply (AddLine (AfterVar (Some 2) (codes "F")) (NewRule (codes "c") Double []))) ∷ [])) ∷  -- further-408
    (codes "replace X -g \"a:b \\\\\\\\a\"", Ok (on_line 1 (Apply (ChangeLine None (codes "X") (edits.ReplaceWord (codes "-g") (codes "a:b \\\\a")))) ∷ [])) ∷  -- further-409
    (codes "\"subst\" X b \"\"", Ok (on_line 1 (Apply (ChangeLine None (codes "X") (edits.Substitute (codes "b") []))) ∷ [])) ∷  -- further-410
    (codes " \"nth\" 0 depend-replace \"i\" i foo", Ok (on_line 1 (Apply (ChangePrereqs (Some 0) (codes "i") (ReplacePrereq (codes "i") (codes "foo")))) ∷ [])) ∷  -- further-411
    (codes "nth  2  \"add-before\"  \"F\"  \"a\"  x.c", Ok (on_line 1 (Apply (ChangeLine (Some 2) (codes "F") (edits.InsertWord Before (codes "a") (codes "x.c")))) ∷ [])) ∷  -- further-412
    (codes "nth \"001\" \"prepend\" X \"a:b x=1\"", Ok (on_line 1 (Apply (ChangeLine (Some 1) (codes "X") (edits.Prepend (codes "a:b x=1")))) ∷ [])) ∷  -- further-413
    (codes "assign top F :::= b", Ok (on_line 1 (Apply (AddLine Top (NewAssign (codes "F") Immediate (codes "b")))) ∷ [])) ∷  -- further-414
    (codes " recipes-subst -s yy", Ok (on_line 1 (Apply (EachLine (SubstRecipes (codes "-s") (codes "yy")))) ∷ [])) ∷  -- further-415
    (codes "comment-out\tF", Ok (on_line 1 (Apply (SwitchLine CommentOut None (codes "F"))) ∷ [])) ∷  -- further-416
    (codes "insert \"before-var\" F <<end\nF = a \\\n  b\nend", Ok (on_line 1 (Apply (ExchangeLines (AtPlace (BeforeVar None (codes "F"))) (block_lines (codes "F = a \\\n  b")))) ∷ [])) ∷  -- further-417
    (codes "comment-out a.b", Ok (on_line 1 (Apply (SwitchLine CommentOut None (codes "a.b"))) ∷ [])) ∷  -- further-418
    (codes " recipes-subst rue \"\"", Ok (on_line 1 (Apply (EachLine (SubstRecipes (codes "rue") []))) ∷ [])) ∷  -- further-419
    (codes "values-subst b yy", Ok (on_line 1 (Apply (EachLine (SubstValues (codes "b") (codes "yy")))) ∷ [])) ∷  -- further-420
    (codes "all \"replace\" X \"-g\" \"a \"", Ok (on_line 1 (Apply (EachLine (ChangeEach (codes "X") (edits.ReplaceWord (codes "-g") (codes "a "))))) ∷ [])) ∷  -- further-421
    (codes "nth 2 add-before F \"$x\" -O3", Ok (on_line 1 (Apply (ChangeLine (Some 2) (codes "F") (edits.InsertWord Before (codes "$x") (codes "-O3")))) ∷ [])) ∷  -- further-422
    (codes "nth 1 prepend X \"-g\"", Ok (on_line 1 (Apply (ChangeLine (Some 1) (codes "X") (edits.Prepend (codes "-g")))) ∷ [])) ∷  -- further-423
    (codes "nth 1 rule \"before-rule\" \"\" \"c\" :: \"a b\"", Ok (on_line 1 (Apply (AddLine (BeforeRule (Some 1) []) (NewRule (codes "c") Double (codes "a b")))) ∷ [])) ∷  -- further-424
    (codes "replace \"F\" b \"b x$(a  b)\"", Ok (on_line 1 (Apply (ChangeLine None (codes "F") (edits.ReplaceWord (codes "b") (codes "b x$(a  b)")))) ∷ [])) ∷  -- further-425
    (codes "\"nth\" 002 \"operator\" F +=", Ok (on_line 1 (Apply (ChangeLine (Some 2) (codes "F") (edits.SetOperator Append))) ∷ [])) ∷  -- further-426
    (codes "rule top c : \"a b\"", Ok (on_line 1 (Apply (AddLine Top (NewRule (codes "c") Single (codes "a b")))) ∷ [])) ∷  -- further-427
    (codes "all set-if \"X\" 1 \"\"", Ok (on_line 1 (Apply (ChangeValue Every (codes "X") (edits.SetIf (codes "1") []))) ∷ [])) ∷  -- further-428
    (codes "\"all\" subst \"X\" \"\" \"\t\"", Ok (on_line 1 (Apply (EachLine (ChangeEach (codes "X") (edits.Substitute [] (codes "\t"))))) ∷ [])) ∷  -- further-429
    (codes "all \"subst\" F \"-g\" \"\"", Ok (on_line 1 (Apply (EachLine (ChangeEach (codes "F") (edits.Substitute (codes "-g") [])))) ∷ [])) ∷  -- further-430
    (codes "rule after-last-var F x.o :: \"a b\"", Ok (on_line 1 (Apply (AddLine (AfterLastVar (codes "F")) (NewRule (codes "x.o") Double (codes "a b")))) ∷ [])) ∷  -- further-431
    (codes "\"values-subst\" \"-O2\" \"aa\"", Ok (on_line 1 (Apply (EachLine (SubstValues (codes "-O2") (codes "aa")))) ∷ [])) ∷  -- further-432
    (codes "nth\t\"2\"\treplace\tF\t\"$ b\"\t\"$(u $(t -g)\"", Ok (on_line 1 (Apply (ChangeLine (Some 2) (codes "F") (edits.ReplaceWord (codes "$ b") (codes "$(u $(t -g)")))) ∷ [])) ∷  -- further-433
    (codes "assign after-last-var override F != \"$(a b) $(u\"", Ok (on_line 1 (Apply (AddLine (AfterLastVar (codes "override")) (NewAssign (codes "F") Shell (codes "$(a b) $(u")))) ∷ [])) ∷  -- further-434
    []

answers_13 : map (λ row. read_script row.0) rows_13 ≡ map (λ row. row.1) rows_13
unfolding line_len lines_from
answers_13 = refl

abbrev rows_14 : List (List ℕ × Result (List Step) ℕ)
rows_14 =
    (codes "recipes-subst t \"a b\"", Ok (on_line 1 (Apply (EachLine (SubstRecipes (codes "t") (codes "a b")))) ∷ [])) ∷  -- further-435
    (codes "depend-replace \"a\" b %.o", Ok (on_line 1 (Apply (ChangePrereqs None (codes "a") (ReplacePrereq (codes "b") (codes "%.o")))) ∷ [])) ∷  -- further-436
    (codes "insert before-rule d <<9\n\tcc -s x\n\t\n9", Ok (on_line 1 (Apply (ExchangeLines (AtPlace (BeforeRule None (codes "d"))) (block_lines (codes "\tcc -s x\n\t")))) ∷ [])) ∷  -- further-437
    (codes "\"operator\" F ?=", Ok (on_line 1 (Apply (ChangeLine None (codes "F") (edits.SetOperator Conditional))) ∷ [])) ∷  -- further-438
    (codes "recipes-subst true ab", Ok (on_line 1 (Apply (EachLine (SubstRecipes (codes "true") (codes "ab")))) ∷ [])) ∷  -- further-439
    (codes "assign  before-var  F  \"F\"  ::=  -g", Ok (on_line 1 (Apply (AddLine (BeforeVar None (codes "F")) (NewAssign (codes "F") PosixSimple (codes "-g")))) ∷ [])) ∷  -- further-440
    (codes "nth 1 \"replace\" F b \"x$(a  b)\"", Ok (on_line 1 (Apply (ChangeLine (Some 1) (codes "F") (edits.ReplaceWord (codes "b") (codes "x$(a  b)")))) ∷ [])) ∷  -- further-441
    (codes " nth 1 replace F \"-g\" x=1", Ok (on_line 1 (Apply (ChangeLine (Some 1) (codes "F") (edits.ReplaceWord (codes "-g") (codes "x=1")))) ∷ [])) ∷  -- further-442
    (codes "nth \"4294967295\" subst \"\" \"\" \"$(\"", Ok (on_line 1 (Apply (ChangeLine (Some 4294967295) [] (edits.Substitute [] (codes "$(")))) ∷ [])) ∷  -- further-443
    (codes "nth\t002\treplace\tF\ta\tb", Ok (on_line 1 (Apply (ChangeLine (Some 2) (codes "F") (edits.ReplaceWord (codes "a") (codes "b")))) ∷ [])) ∷  -- further-444
    (codes "\"nth\" 2 \"insert\" after-var \"\" <<O1\nelse\nO1", Ok (on_line 1 (Apply (ExchangeLines (AtPlace (AfterVar (Some 2) [])) (block_lines (codes "else")))) ∷ [])) ∷  -- further-445
    (codes "recipes-subst \"\\\\\" /usr", Ok (on_line 1 (Apply (EachLine (SubstRecipes (codes "\\") (codes "/usr")))) ∷ [])) ∷  -- further-446
    (codes " \"all\"\tprepend\t\"F\"\t\"\"", Ok (on_line 1 (Apply (EachLine (ChangeEach (codes "F") (edits.Prepend [])))) ∷ [])) ∷  -- further-447
    (codes "nth 0 add-before override \"$(A -g)\" \"a \"", Ok (on_line 1 (Apply (ChangeLine (Some 0) (codes "override") (edits.InsertWord Before (codes "$(A -g)") (codes "a ")))) ∷ [])) ∷  -- further-448
    (codes "values-subst \"a b) \\\\\\\\\" \"x\"", Ok (on_line 1 (Apply (EachLine (SubstValues (codes "a b) \\\\") (codes "x")))) ∷ [])) ∷  -- further-449
    (codes "nth 1 add-before F aaa \"$(new a)\"", Ok (on_line 1 (Apply (ChangeLine (Some 1) (codes "F") (edits.InsertWord Before (codes "aaa") (codes "$(new a)")))) ∷ [])) ∷  -- further-450
    (codes "operator F :::=", Ok (on_line 1 (Apply (ChangeLine None (codes "F") (edits.SetOperator Immediate))) ∷ [])) ∷  -- further-451
    (codes " rule before-rule a c : \"\"", Ok (on_line 1 (Apply (AddLine (BeforeRule None (codes "a")) (NewRule (codes "c") Single []))) ∷ [])) ∷  -- further-452
    (codes "\"assign\"  bottom  \"F\"  \":=\"  \"; a:b\"", Ok (on_line 1 (Apply (AddLine Bottom (NewAssign (codes "F") Simple (codes "; a:b")))) ∷ [])) ∷  -- further-453
    (codes "insert before-var override <<O1\nx \\\n\nO1", Ok (on_line 1 (Apply (ExchangeLines (AtPlace (BeforeVar None (codes "override"))) (block_lines (codes "x \\\n")))) ∷ [])) ∷  -- further-454
    (codes "\"rule\" \"after-rule\" \"\" \"c\" : \"\"", Ok (on_line 1 (Apply (AddLine (AfterRule None []) (NewRule (codes "c") Single []))) ∷ [])) ∷  -- further-455
    (codes "\"all\" subst \"F\" \"a\\\\ \" \"\"", Ok (on_line 1 (Apply (EachLine (ChangeEach (codes "F") (edits.Substitute (codes "a\\ ") [])))) ∷ [])) ∷  -- further-456
    (codes "recipes-subst\tb\t}", Ok (on_line 1 (Apply (EachLine (SubstRecipes (codes "b") (codes "}")))) ∷ [])) ∷  -- further-457
    (codes "rule after-rule include c \":\" a", Ok (on_line 1 (Apply (AddLine (AfterRule None (codes "include")) (NewRule (codes "c") Single (codes "a")))) ∷ [])) ∷  -- further-458
    (codes "rule \"before-var\" F c :: \"\"", Ok (on_line 1 (Apply (AddLine (BeforeVar None (codes "F")) (NewRule (codes "c") Double []))) ∷ [])) ∷  -- further-461
    (codes "depend-replace\tc\td\t\"x.o\"", Ok (on_line 1 (Apply (ChangePrereqs None (codes "c") (ReplacePrereq (codes "d") (codes "x.o")))) ∷ [])) ∷  -- further-462
    (codes "all \"prepend\" X \"b b\"", Ok (on_line 1 (Apply (EachLine (ChangeEach (codes "X") (edits.Prepend (codes "b b"))))) ∷ [])) ∷  -- further-463
    (codes "\"nth\" 4294967295 operator $(X) :::=", Ok (on_line 1 (Apply (ChangeLine (Some 4294967295) (codes "$(X)") (edits.SetOperator Immediate))) ∷ [])) ∷  -- further-464
    (codes "all subst X \" \\\\\" ab", Ok (on_line 1 (Apply (EachLine (ChangeEach (codes "X") (edits.Substitute (codes " \\") (codes "ab"))))) ∷ [])) ∷  -- further-465
    (codes "assign top X \"?=\" \"a\\\\\"", Ok (on_line 1 (Apply (AddLine Top (NewAssign (codes "X") Conditional (codes "a\\")))) ∷ [])) ∷  -- further-466
    (codes "rule before-var X \"c\" : \"a b\"", Ok (on_line 1 (Apply (AddLine (BeforeVar None (codes "X")) (NewRule (codes "c") Single (codes "a b")))) ∷ [])) ∷  -- further-467
    (codes "operator X !=", Ok (on_line 1 (Apply (ChangeLine None (codes "X") (edits.SetOperator Shell))) ∷ [])) ∷  -- further-468
    (codes " \"all\" subst F \"b \\\\ |\" x=1", Ok (on_line 1 (Apply (EachLine (ChangeEach (codes "F") (edits.Substitute (codes "b \\ |") (codes "x=1"))))) ∷ [])) ∷  -- further-470
    (codes "assign after-rule \"include\" \"X\" \"?=\" \"$(u a b\"", Ok (on_line 1 (Apply (AddLine (AfterRule None (codes "include")) (NewAssign (codes "X") Conditional (codes "$(u a b")))) ∷ [])) ∷  -- further-471
    (codes "\"all\" operator F !=", Ok (on_line 1 (Apply (EachLine (ChangeEach (codes "F") (edits.SetOperator Shell)))) ∷ [])) ∷  -- further-472
    (codes "\"recipes-subst\" a aa", Ok (on_line 1 (Apply (EachLine (SubstRecipes (codes "a") (codes "aa")))) ∷ [])) ∷  -- further-473
    (codes "replace a.b a:b \"$(A -g)\"", Ok (on_line 1 (Apply (ChangeLine None (codes "a.b") (edits.ReplaceWord (codes "a:b") (codes "$(A -g)")))) ∷ [])) ∷  -- further-474
    (codes "values-subst\t\"$#\"\t\"\"", Ok (on_line 1 (Apply (EachLine (SubstValues (codes "$#") []))) ∷ [])) ∷  -- further-475
    (codes "depend-replace \"c\" a ${c}", Ok (on_line 1 (Apply (ChangePrereqs None (codes "c") (ReplacePrereq (codes "a") (codes "${c}")))) ∷ [])) ∷  -- further-476
    (codes "uncomment \"a b\"", Ok (on_line 1 (Apply (SwitchLine Uncomment None (codes "a b"))) ∷ [])) ∷  -- further-477
    (codes "rule before-rule \"d\" d :: \"\"", Ok (on_line 1 (Apply (AddLine (BeforeRule None (codes "d")) (NewRule (codes "d") Double []))) ∷ [])) ∷  -- further-478
    (codes "rule top \"d\" : \"a b\"", Ok (on_line 1 (Apply (AddLine Top (NewRule (codes "d") Single (codes "a b")))) ∷ [])) ∷  -- further-479
    (codes "nth 2 recipe-subst \"d\" \"\" \"\"", Ok (on_line 1 (Apply (EachLine (SubstRecipe (Some 2) (codes "d") [] []))) ∷ [])) ∷  -- further-480
    (codes "rule before-var X c : \"a b\"", Ok (on_line 1 (Apply (AddLine (BeforeVar None (codes "X")) (NewRule (codes "c") Single (codes "a b")))) ∷ [])) ∷  -- further-481
    (codes "assign \"top\" F += -g", Ok (on_line 1 (Apply (AddLine Top (NewAssign (codes "F") Append (codes "-g")))) ∷ [])) ∷  -- further-482
    (codes "rule-replace a <<EOF\na: x.o x.o x.o\\\nEOF", Ok (on_line 1 (Apply (ExchangeLines (OfRuleRun None (codes "a")) (block_lines (codes "a: x.o x.o x.o\\")))) ∷ [])) ∷  -- further-483
    (codes "\"all\" operator F ?=", Ok (on_line 1 (Apply (EachLine (ChangeEach (codes "F") (edits.SetOperator Conditional)))) ∷ [])) ∷  -- further-484
    (codes "nth 1 replace F a$\\\\ \"-O2\"", Ok (on_line 1 (Apply (ChangeLine (Some 1) (codes "F") (edits.ReplaceWord (codes "a$\\\\") (codes "-O2")))) ∷ [])) ∷  -- further-485
    (codes "all set-if F \"-g  -g -O2\" \"\"", Ok (on_line 1 (Apply (ChangeValue Every (codes "F") (edits.SetIf (codes "-g  -g -O2") []))) ∷ [])) ∷  -- further-486
    (codes "comment-out\tX", Ok (on_line 1 (Apply (SwitchLine CommentOut None (codes "X"))) ∷ [])) ∷  -- further-487
    []

answers_14 : map (λ row. read_script row.0) rows_14 ≡ map (λ row. row.1) rows_14
unfolding line_len lines_from
answers_14 = refl

abbrev rows_15 : List (List ℕ × Result (List Step) ℕ)
rows_15 =
    (codes "values-subst a:b \"\"", Ok (on_line 1 (Apply (EachLine (SubstValues (codes "a:b") []))) ∷ [])) ∷  -- further-488
    (codes "all\treplace\toverride\t-g\t\"-O2 -O2\"", Ok (on_line 1 (Apply (EachLine (ChangeEach (codes "override") (edits.ReplaceWord (codes "-g") (codes "-O2 -O2"))))) ∷ [])) ∷  -- further-489
    (codes "line-replace \"\\\\\" <<_\noverride define E\n  b\n_", Ok (on_line 1 (Apply (ExchangeLines (OfRun None (block_lines (codes "\\"))) (block_lines (codes "override define E\n  b")))) ∷ [])) ∷  -- further-490
    (codes "insert after-var a.b <<O1\ndefine D\nx\nendef\nO1", Ok (on_line 1 (Apply (ExchangeLines (AtPlace (AfterVar None (codes "a.b"))) (block_lines (codes "define D\nx\nendef")))) ∷ [])) ∷  -- further-491
    (codes "\"prepend\" X \"a b\"", Ok (on_line 1 (Apply (ChangeLine None (codes "X") (edits.Prepend (codes "a b")))) ∷ [])) ∷  -- further-492
    (codes " all operator F :::=", Ok (on_line 1 (Apply (EachLine (ChangeEach (codes "F") (edits.SetOperator Immediate)))) ∷ [])) ∷  -- further-493
    (codes "nth 2 rule after-var F c : \"\"", Ok (on_line 1 (Apply (AddLine (AfterVar (Some 2) (codes "F")) (NewRule (codes "c") Single []))) ∷ [])) ∷  -- further-494
    (codes "prepend F \"a\\\\\\\\ b\"", Ok (on_line 1 (Apply (ChangeLine None (codes "F") (edits.Prepend (codes "a\\\\ b")))) ∷ [])) ∷  -- further-495
    (codes "\"assign\" bottom \"F\" += \"$(s (b) a) =\"", Ok (on_line 1 (Apply (AddLine Bottom (NewAssign (codes "F") Append (codes "$(s (b) a) =")))) ∷ [])) ∷  -- further-496
    (codes "values-subst\t\"a:b\"\t\"\"", Ok (on_line 1 (Apply (EachLine (SubstValues (codes "a:b") []))) ∷ [])) ∷  -- further-497
    (codes "values-subst \" \" \r", Ok (on_line 1 (Apply (EachLine (SubstValues (codes " ") (codes "\r")))) ∷ [])) ∷  -- further-498
    (codes "\"all\" \"operator\" F !=", Ok (on_line 1 (Apply (EachLine (ChangeEach (codes "F") (edits.SetOperator Shell)))) ∷ [])) ∷  -- further-499
    (codes "all set-if \"F\" \"$(s (b) a) b -g\" a", Ok (on_line 1 (Apply (ChangeValue Every (codes "F") (edits.SetIf (codes "$(s (b) a) b -g") (codes "a")))) ∷ [])) ∷  -- further-500
    (codes "\"nth\"  \"2\"  prepend  F  \"x=1 ${c}\"", Ok (on_line 1 (Apply (ChangeLine (Some 2) (codes "F") (edits.Prepend (codes "x=1 ${c}")))) ∷ [])) ∷  -- further-501
    (codes "nth 0 uncomment .RECIPEPREFIX", Ok (on_line 1 (Apply (SwitchLine Uncomment (Some 0) (codes ".RECIPEPREFIX"))) ∷ [])) ∷  -- further-502
    (codes "all \"prepend\" a.b \"-g\"", Ok (on_line 1 (Apply (EachLine (ChangeEach (codes "a.b") (edits.Prepend (codes "-g"))))) ∷ [])) ∷  -- further-503
    (codes "operator F \":=\"", Ok (on_line 1 (Apply (ChangeLine None (codes "F") (edits.SetOperator Simple))) ∷ [])) ∷  -- further-504
    (codes " recipe-subst include a \" x\"", Ok (on_line 1 (Apply (EachLine (SubstRecipe None (codes "include") (codes "a") (codes " x")))) ∷ [])) ∷  -- further-505
    (codes "all operator F =", Ok (on_line 1 (Apply (EachLine (ChangeEach (codes "F") (edits.SetOperator Recursive)))) ∷ [])) ∷  -- further-506
    (codes " add-before a.b = \"$(new a)\"", Ok (on_line 1 (Apply (ChangeLine None (codes "a.b") (edits.InsertWord Before (codes "=") (codes "$(new a)")))) ∷ [])) ∷  -- further-507
    (codes "rule after-var F %.o :: \"\"", Ok (on_line 1 (Apply (AddLine (AfterVar None (codes "F")) (NewRule (codes "%.o") Double []))) ∷ [])) ∷  -- further-508
    (codes "recipes-subst -s \"\"", Ok (on_line 1 (Apply (EachLine (SubstRecipes (codes "-s") []))) ∷ [])) ∷  -- further-509
    (codes "replace override \"a:b\" -O2", Ok (on_line 1 (Apply (ChangeLine None (codes "override") (edits.ReplaceWord (codes "a:b") (codes "-O2")))) ∷ [])) ∷  -- further-510
    (codes "\"all\" replace X | $x", Ok (on_line 1 (Apply (EachLine (ChangeEach (codes "X") (edits.ReplaceWord (codes "|") (codes "$x"))))) ∷ [])) ∷  -- further-511
    (codes "replace F b -g", Ok (on_line 1 (Apply (ChangeLine None (codes "F") (edits.ReplaceWord (codes "b") (codes "-g")))) ∷ [])) ∷  -- further-512
    (codes " \"nth\" 2 replace F \"a$ endif\" \"$ b \\\\#\"", Ok (on_line 1 (Apply (ChangeLine (Some 2) (codes "F") (edits.ReplaceWord (codes "a$ endif") (codes "$ b \\#")))) ∷ [])) ∷  -- further-513
    (codes "\"replace\" F \"b\" \"a\"", Ok (on_line 1 (Apply (ChangeLine None (codes "F") (edits.ReplaceWord (codes "b") (codes "a")))) ∷ [])) ∷  -- further-514
    (codes "insert \"after-last-var\" override <<EOF\nF = -g\n\tfor f in x; do \\\nEOF", Ok (on_line 1 (Apply (ExchangeLines (AtPlace (AfterLastVar (codes "override"))) (block_lines (codes "F = -g\n\tfor f in x; do \\")))) ∷ [])) ∷  -- further-515
    (codes "depend-replace\tinclude\t$x\t\"$x\"", Ok (on_line 1 (Apply (ChangePrereqs None (codes "include") (ReplacePrereq (codes "$x") (codes "$x")))) ∷ [])) ∷  -- further-516
    (codes "insert top <<end\n.RECIPEPREFIX = X\nend", Ok (on_line 1 (Apply (ExchangeLines (AtPlace Top) (block_lines (codes ".RECIPEPREFIX = X")))) ∷ [])) ∷  -- further-517
    (codes "all prepend F \"$(s (b) a) b\"", Ok (on_line 1 (Apply (EachLine (ChangeEach (codes "F") (edits.Prepend (codes "$(s (b) a) b"))))) ∷ [])) ∷  -- further-518
    (codes " rule before-rule d x.o \":\" a", Ok (on_line 1 (Apply (AddLine (BeforeRule None (codes "d")) (NewRule (codes "x.o") Single (codes "a")))) ∷ [])) ∷  -- further-519
    (codes "operator F :=", Ok (on_line 1 (Apply (ChangeLine None (codes "F") (edits.SetOperator Simple))) ∷ [])) ∷  -- further-520
    (codes "\"all\" operator F ::=", Ok (on_line 1 (Apply (EachLine (ChangeEach (codes "F") (edits.SetOperator PosixSimple)))) ∷ [])) ∷  -- further-521
    (codes "all subst \"F\" \"b \" aa", Ok (on_line 1 (Apply (EachLine (ChangeEach (codes "F") (edits.Substitute (codes "b ") (codes "aa"))))) ∷ [])) ∷  -- further-522
    (codes "all \"replace\" F a$\\ b", Ok (on_line 1 (Apply (EachLine (ChangeEach (codes "F") (edits.ReplaceWord (codes "a$\\") (codes "b"))))) ∷ [])) ∷  -- further-523
    (codes "all replace \"F\" = \"b =\"", Ok (on_line 1 (Apply (EachLine (ChangeEach (codes "F") (edits.ReplaceWord (codes "=") (codes "b ="))))) ∷ [])) ∷  -- further-524
    (codes "all set-if X \"b a\" $\\x", Ok (on_line 1 (Apply (ChangeValue Every (codes "X") (edits.SetIf (codes "b a") (codes "$\\x")))) ∷ [])) ∷  -- further-525
    (codes "recipes-subst \"cc\" \" \\\\\"", Ok (on_line 1 (Apply (EachLine (SubstRecipes (codes "cc") (codes " \\")))) ∷ [])) ∷  -- further-526
    (codes "all\tsubst\ta.b\tcc\t\"/usr\"", Ok (on_line 1 (Apply (EachLine (ChangeEach (codes "a.b") (edits.Substitute (codes "cc") (codes "/usr"))))) ∷ [])) ∷  -- further-527
    (codes "nth 1 insert after-var F <<9\nF = a \\\n  b\n9", Ok (on_line 1 (Apply (ExchangeLines (AtPlace (AfterVar (Some 1) (codes "F"))) (block_lines (codes "F = a \\\n  b")))) ∷ [])) ∷  -- further-528
    (codes "depend-replace  \"c\"  x.o  %.o", Ok (on_line 1 (Apply (ChangePrereqs None (codes "c") (ReplacePrereq (codes "x.o") (codes "%.o")))) ∷ [])) ∷  -- further-529
    (codes "\"recipes-subst\" e \"\"", Ok (on_line 1 (Apply (EachLine (SubstRecipes (codes "e") []))) ∷ [])) ∷  -- further-530
    (codes "prepend a.b \"$(s (b) a)\"", Ok (on_line 1 (Apply (ChangeLine None (codes "a.b") (edits.Prepend (codes "$(s (b) a)")))) ∷ [])) ∷  -- further-531
    (codes "depend-replace\ta\ta\t.PHONY", Ok (on_line 1 (Apply (ChangePrereqs None (codes "a") (ReplacePrereq (codes "a") (codes ".PHONY")))) ∷ [])) ∷  -- further-532
    (codes "nth\t1\treplace\tF\t\"-g\"\t\"a\\\\ b\"", Ok (on_line 1 (Apply (ChangeLine (Some 1) (codes "F") (edits.ReplaceWord (codes "-g") (codes "a\\ b")))) ∷ [])) ∷  -- further-533
    (codes "depend-replace a a %.o", Ok (on_line 1 (Apply (ChangePrereqs None (codes "a") (ReplacePrereq (codes "a") (codes "%.o")))) ∷ [])) ∷  -- further-534
    (codes "\"all\"\treplace\tF\ta\t\"a$ b $(s (b) a)\"", Ok (on_line 1 (Apply (EachLine (ChangeEach (codes "F") (edits.ReplaceWord (codes "a") (codes "a$ b $(s (b) a)"))))) ∷ [])) ∷  -- further-535
    (codes "all  subst  F  a  x=1", Ok (on_line 1 (Apply (EachLine (ChangeEach (codes "F") (edits.Substitute (codes "a") (codes "x=1"))))) ∷ [])) ∷  -- further-536
    (codes "assign \"after-last-var\" \"\" X ?= -g", Ok (on_line 1 (Apply (AddLine (AfterLastVar []) (NewAssign (codes "X") Conditional (codes "-g")))) ∷ [])) ∷  -- further-537
    []

answers_15 : map (λ row. read_script row.0) rows_15 ≡ map (λ row. row.1) rows_15
unfolding line_len lines_from
answers_15 = refl

abbrev rows_16 : List (List ℕ × Result (List Step) ℕ)
rows_16 =
    (codes "prepend override \"${c} a b\"", Ok (on_line 1 (Apply (ChangeLine None (codes "override") (edits.Prepend (codes "${c} a b")))) ∷ [])) ∷  -- further-538
    (codes "assign before-var \"F\" X :::= b", Ok (on_line 1 (Apply (AddLine (BeforeVar None (codes "F")) (NewAssign (codes "X") Immediate (codes "b")))) ∷ [])) ∷  -- further-539
    (codes "subst F \0 \" x\"", Ok (on_line 1 (Apply (ChangeLine None (codes "F") (edits.Substitute (codes "\0") (codes " x")))) ∷ [])) ∷  -- further-540
    (codes "assign after-var \"\" a.b += a", Ok (on_line 1 (Apply (AddLine (AfterVar None []) (NewAssign (codes "a.b") Append (codes "a")))) ∷ [])) ∷  -- further-541
    (codes "all replace \"F\" \"|\" \"$(s (b) a)\"", Ok (on_line 1 (Apply (EachLine (ChangeEach (codes "F") (edits.ReplaceWord (codes "|") (codes "$(s (b) a)"))))) ∷ [])) ∷  -- further-542
    (codes " rule before-rule \"d\" c :: \"\"", Ok (on_line 1 (Apply (AddLine (BeforeRule None (codes "d")) (NewRule (codes "c") Double []))) ∷ [])) ∷  -- further-544
    (codes "all prepend X \"x$(a  b)\"", Ok (on_line 1 (Apply (EachLine (ChangeEach (codes "X") (edits.Prepend (codes "x$(a  b)"))))) ∷ [])) ∷  -- further-545
    (codes "rule before-rule c c :: a", Ok (on_line 1 (Apply (AddLine (BeforeRule None (codes "c")) (NewRule (codes "c") Double (codes "a")))) ∷ [])) ∷  -- further-546
    (codes "all set-if F \"\" \"x=1 -O2\"", Ok (on_line 1 (Apply (ChangeValue Every (codes "F") (edits.SetIf [] (codes "x=1 -O2")))) ∷ [])) ∷  -- further-547
    (codes " \"nth\" 2 \"subst\" \"F\" a \r", Ok (on_line 1 (Apply (ChangeLine (Some 2) (codes "F") (edits.Substitute (codes "a") (codes "\r")))) ∷ [])) ∷  -- further-548
    (codes "all \"set-if\" F \"$(a b)\" \"\"", Ok (on_line 1 (Apply (ChangeValue Every (codes "F") (edits.SetIf (codes "$(a b)") []))) ∷ [])) ∷  -- further-549
    (codes "\"nth\" \"2\" insert \"after-var\" F <<EOF\nendef\ndefine D\nEOF", Ok (on_line 1 (Apply (ExchangeLines (AtPlace (AfterVar (Some 2) (codes "F"))) (block_lines (codes "endef\ndefine D")))) ∷ [])) ∷  -- further-550
    (codes "all replace X \"$ b\" \"$(w a) -g\"", Ok (on_line 1 (Apply (EachLine (ChangeEach (codes "X") (edits.ReplaceWord (codes "$ b") (codes "$(w a) -g"))))) ∷ [])) ∷  -- further-551
    (codes "all prepend F \"$(A -g)\"", Ok (on_line 1 (Apply (EachLine (ChangeEach (codes "F") (edits.Prepend (codes "$(A -g)"))))) ∷ [])) ∷  -- further-552
    (codes "\"operator\" .RECIPEPREFIX \"::=\"", Ok (on_line 1 (Apply (ChangeLine None (codes ".RECIPEPREFIX") (edits.SetOperator PosixSimple))) ∷ [])) ∷  -- further-554
    (codes "all \"operator\" a.b ?=", Ok (on_line 1 (Apply (EachLine (ChangeEach (codes "a.b") (edits.SetOperator Conditional)))) ∷ [])) ∷  -- further-555
    (codes "all prepend F \"$ b\"", Ok (on_line 1 (Apply (EachLine (ChangeEach (codes "F") (edits.Prepend (codes "$ b"))))) ∷ [])) ∷  -- further-556
    (codes "all operator a.b \"=\"", Ok (on_line 1 (Apply (EachLine (ChangeEach (codes "a.b") (edits.SetOperator Recursive)))) ∷ [])) ∷  -- further-557
    (codes "operator\t\"F\"\t?=", Ok (on_line 1 (Apply (ChangeLine None (codes "F") (edits.SetOperator Conditional))) ∷ [])) ∷  -- further-558
    (codes "assign \"after-last-var\" .RECIPEPREFIX F != \"\"", Ok (on_line 1 (Apply (AddLine (AfterLastVar (codes ".RECIPEPREFIX")) (NewAssign (codes "F") Shell []))) ∷ [])) ∷  -- further-559
    (codes "nth  002  assign  before-var  F  a.b  =  ${c}", Ok (on_line 1 (Apply (AddLine (BeforeVar (Some 2) (codes "F")) (NewAssign (codes "a.b") Recursive (codes "${c}")))) ∷ [])) ∷  -- further-560
    (codes "nth \"1\" \"operator\" F :::=", Ok (on_line 1 (Apply (ChangeLine (Some 1) (codes "F") (edits.SetOperator Immediate))) ∷ [])) ∷  -- further-561
    (codes "\"all\" set-if .RECIPEPREFIX ${c} \"-O3 -g\"", Ok (on_line 1 (Apply (ChangeValue Every (codes ".RECIPEPREFIX") (edits.SetIf (codes "${c}") (codes "-O3 -g")))) ∷ [])) ∷  -- further-562
    (codes "nth 2 depend-replace \"a\" x.o \"$(p #)\"", Ok (on_line 1 (Apply (ChangePrereqs (Some 2) (codes "a") (ReplacePrereq (codes "x.o") (codes "$(p #)")))) ∷ [])) ∷  -- further-563
    (codes "all replace X 1 x=1", Ok (on_line 1 (Apply (EachLine (ChangeEach (codes "X") (edits.ReplaceWord (codes "1") (codes "x=1"))))) ∷ [])) ∷  -- further-564
    (codes "all set-if F \"a:b a ${c} -g -g\" -O2", Ok (on_line 1 (Apply (ChangeValue Every (codes "F") (edits.SetIf (codes "a:b a ${c} -g -g") (codes "-O2")))) ∷ [])) ∷  -- further-565
    (codes "operator \"F\" +=", Ok (on_line 1 (Apply (ChangeLine None (codes "F") (edits.SetOperator Append))) ∷ [])) ∷  -- further-566
    (codes "insert \"after-line\" <<_ <<E\n.RECIPEPREFIX = $x\nc: a | b\n_\nendif\nifdef B\nE", Ok (on_line 1 (Apply (ExchangeLines (AfterRun None (block_lines (codes ".RECIPEPREFIX = $x\nc: a | b"))) (block_lines (codes "endif\nifdef B")))) ∷ [])) ∷  -- further-567
    (codes "all \"subst\" F -g $", Ok (on_line 1 (Apply (EachLine (ChangeEach (codes "F") (edits.Substitute (codes "-g") (codes "$"))))) ∷ [])) ∷  -- further-568
    (codes "all set-if F \"b -g\tb |\" a\\\\", Ok (on_line 1 (Apply (ChangeValue Every (codes "F") (edits.SetIf (codes "b -g\tb |") (codes "a\\\\")))) ∷ [])) ∷  -- further-569
    (codes "depend-replace d \"b\" \"$(f {)\"", Ok (on_line 1 (Apply (ChangePrereqs None (codes "d") (ReplacePrereq (codes "b") (codes "$(f {)")))) ∷ [])) ∷  -- further-570
    (codes "insert \"after-rule\" c <<E\ndefine .RECIPEPREFIX\nx\\\nx\\\nE", Ok (on_line 1 (Apply (ExchangeLines (AtPlace (AfterRule None (codes "c"))) (block_lines (codes "define .RECIPEPREFIX\nx\\\nx\\")))) ∷ [])) ∷  -- further-571
    (codes "depend-replace\t\"a b\"\ta\tb", Ok (on_line 1 (Apply (ChangePrereqs None (codes "a b") (ReplacePrereq (codes "a") (codes "b")))) ∷ [])) ∷  -- further-572
    (codes "nth  \"1\"  rule  \"after-var\"  \"F\"  c  \"::\"  \"a b\"", Ok (on_line 1 (Apply (AddLine (AfterVar (Some 1) (codes "F")) (NewRule (codes "c") Double (codes "a b")))) ∷ [])) ∷  -- further-573
    (codes "all subst \"F\" \"\\\\$#\" \"ab\"", Ok (on_line 1 (Apply (EachLine (ChangeEach (codes "F") (edits.Substitute (codes "\\$#") (codes "ab"))))) ∷ [])) ∷  -- further-574
    (codes "all operator F !=", Ok (on_line 1 (Apply (EachLine (ChangeEach (codes "F") (edits.SetOperator Shell)))) ∷ [])) ∷  -- further-575
    (codes "nth 0 insert before-line <<E \"include a.mk\"\nF = aaa aaaa # aa\n\tfor f in x; do \\\ndefine E\nX\nE", Ok (on_line 1 (Apply (ExchangeLines (BeforeRun (Some 0) (block_lines (codes "F = aaa aaaa # aa\n\tfor f in x; do \\\ndefine E\nX"))) (block_lines (codes "include a.mk")))) ∷ [])) ∷  -- further-576
    (codes "\"all\" subst a.b -g \"yy\"", Ok (on_line 1 (Apply (EachLine (ChangeEach (codes "a.b") (edits.Substitute (codes "-g") (codes "yy"))))) ∷ [])) ∷  -- further-577
    (codes "all\treplace\t\"a.b\"\t\"|\"\t\"\\\\# \\\\\\\\a\"", Ok (on_line 1 (Apply (EachLine (ChangeEach (codes "a.b") (edits.ReplaceWord (codes "|") (codes "\\# \\\\a"))))) ∷ [])) ∷  -- further-578
    (codes "\"insert\" after-var override <<X\n\n\nX", Ok (on_line 1 (Apply (ExchangeLines (AtPlace (AfterVar None (codes "override"))) (block_lines (codes "\n")))) ∷ [])) ∷  -- further-579
    (codes "depend-replace \"i\" b $(s\\)", Ok (on_line 1 (Apply (ChangePrereqs None (codes "i") (ReplacePrereq (codes "b") (codes "$(s\\)")))) ∷ [])) ∷  -- further-580
    (codes "assign \"bottom\" F :::= \"\"", Ok (on_line 1 (Apply (AddLine Bottom (NewAssign (codes "F") Immediate []))) ∷ [])) ∷  -- further-581
    (codes "\"all\"\toperator\tX\t::=", Ok (on_line 1 (Apply (EachLine (ChangeEach (codes "X") (edits.SetOperator PosixSimple)))) ∷ [])) ∷  -- further-582
    (codes "rule  after-var  F  d  :  \"\"", Ok (on_line 1 (Apply (AddLine (AfterVar None (codes "F")) (NewRule (codes "d") Single []))) ∷ [])) ∷  -- further-583
    (codes " all  replace  F  a\\$#  \"-g $(w a)\"", Ok (on_line 1 (Apply (EachLine (ChangeEach (codes "F") (edits.ReplaceWord (codes "a\\$#") (codes "-g $(w a)"))))) ∷ [])) ∷  -- further-584
    (codes "insert\tafter-line\t<<EOF\t<<E\nc d: x.o x.o\nifdef A\nEOF\nX = ababa\nF = a \\\nE", Ok (on_line 1 (Apply (ExchangeLines (AfterRun None (block_lines (codes "c d: x.o x.o\nifdef A"))) (block_lines (codes "X = ababa\nF = a \\")))) ∷ [])) ∷  -- further-585
    (codes "\"all\"\treplace\tF\t\";\"\ta", Ok (on_line 1 (Apply (EachLine (ChangeEach (codes "F") (edits.ReplaceWord (codes ";") (codes "a"))))) ∷ [])) ∷  -- further-586
    (codes "all \"operator\" F =", Ok (on_line 1 (Apply (EachLine (ChangeEach (codes "F") (edits.SetOperator Recursive)))) ∷ [])) ∷  -- further-587
    (codes "depend-replace d \"$(w a)\" $x", Ok (on_line 1 (Apply (ChangePrereqs None (codes "d") (ReplacePrereq (codes "$(w a)") (codes "$x")))) ∷ [])) ∷  -- further-588
    (codes "\"depend-replace\"  i  b&  \"$$\"", Ok (on_line 1 (Apply (ChangePrereqs None (codes "i") (ReplacePrereq (codes "b&") (codes "$$")))) ∷ [])) ∷  -- further-589
    []

answers_16 : map (λ row. read_script row.0) rows_16 ≡ map (λ row. row.1) rows_16
unfolding line_len lines_from
answers_16 = refl

abbrev rows_17 : List (List ℕ × Result (List Step) ℕ)
rows_17 =
    (codes " insert \"bottom\" \"#F = a\\\\\"", Ok (on_line 1 (Apply (ExchangeLines (AtPlace Bottom) (block_lines (codes "#F = a\\")))) ∷ [])) ∷  -- further-590
    (codes "assign after-var F F :::= \"\"", Ok (on_line 1 (Apply (AddLine (AfterVar None (codes "F")) (NewAssign (codes "F") Immediate []))) ∷ [])) ∷  -- further-591
    (codes "nth \"2\" insert before-var F <<O1\n\n\nO1", Ok (on_line 1 (Apply (ExchangeLines (AtPlace (BeforeVar (Some 2) (codes "F"))) (block_lines (codes "\n")))) ∷ [])) ∷  -- further-592
    (codes " line-remove endef", Ok (on_line 1 (Apply (ExchangeLines (OfRun None (block_lines (codes "endef"))) [])) ∷ [])) ∷  -- further-593
    (codes "all set-if a.b \"= ; b = |\" \"$ b\"", Ok (on_line 1 (Apply (ChangeValue Every (codes "a.b") (edits.SetIf (codes "= ; b = |") (codes "$ b")))) ∷ [])) ∷  -- further-594
    (codes "prepend \"F\" \"$(t -g)\"", Ok (on_line 1 (Apply (ChangeLine None (codes "F") (edits.Prepend (codes "$(t -g)")))) ∷ [])) ∷  -- further-596
    (codes "\"rule\" before-var F c :: \"a b\"", Ok (on_line 1 (Apply (AddLine (BeforeVar None (codes "F")) (NewRule (codes "c") Double (codes "a b")))) ∷ [])) ∷  -- further-597
    (codes "rule\t\"after-rule\"\ti\tx.o\t\":\"\t\"a b\"", Ok (on_line 1 (Apply (AddLine (AfterRule None (codes "i")) (NewRule (codes "x.o") Single (codes "a b")))) ∷ [])) ∷  -- further-598
    (codes "nth 002 \"rule-replace\" \"c\" <<_\nc::\nifdef  A\n\ta\nendif\n_", Ok (on_line 1 (Apply (ExchangeLines (OfRuleRun (Some 2) (codes "c")) (block_lines (codes "c::\nifdef  A\n\ta\nendif")))) ∷ [])) ∷  -- further-599
    (codes "all \"prepend\" \"X\" \"a -g\"", Ok (on_line 1 (Apply (EachLine (ChangeEach (codes "X") (edits.Prepend (codes "a -g"))))) ∷ [])) ∷  -- further-600
    (codes "rule \"after-last-var\" X include :: \"a b\"", Ok (on_line 1 (Apply (AddLine (AfterLastVar (codes "X")) (NewRule (codes "include") Double (codes "a b")))) ∷ [])) ∷  -- further-601
    (codes "nth \"001\" insert \"after-rule\" include <<_\na:\nifdef A\nendif\n_", Ok (on_line 1 (Apply (ExchangeLines (AtPlace (AfterRule (Some 1) (codes "include"))) (block_lines (codes "a:\nifdef A\nendif")))) ∷ [])) ∷  -- further-602
    (codes "\"assign\" after-rule \"a b\" \"X\" ?= \"x=1 =\"", Ok (on_line 1 (Apply (AddLine (AfterRule None (codes "a b")) (NewAssign (codes "X") Conditional (codes "x=1 =")))) ∷ [])) ∷  -- further-603
    (codes "all set-if \"F\" \"$(a\tb)\" \"\"", Ok (on_line 1 (Apply (ChangeValue Every (codes "F") (edits.SetIf (codes "$(a\tb)") []))) ∷ [])) ∷  -- further-604
    (codes "insert after-var F <<E\na:\nifdef A\nendif\nE", Ok (on_line 1 (Apply (ExchangeLines (AtPlace (AfterVar None (codes "F"))) (block_lines (codes "a:\nifdef A\nendif")))) ∷ [])) ∷  -- further-605
    (codes "all  prepend  F  $\\x", Ok (on_line 1 (Apply (EachLine (ChangeEach (codes "F") (edits.Prepend (codes "$\\x"))))) ∷ [])) ∷  -- further-606
    (codes "assign \"before-rule\" c \"a.b\" :::= =", Ok (on_line 1 (Apply (AddLine (BeforeRule None (codes "c")) (NewAssign (codes "a.b") Immediate (codes "=")))) ∷ [])) ∷  -- further-607
    (codes "\"insert\" before-rule a <<_\nifdef A\nelse\ndefine D\n_", Ok (on_line 1 (Apply (ExchangeLines (AtPlace (BeforeRule None (codes "a"))) (block_lines (codes "ifdef A\nelse\ndefine D")))) ∷ [])) ∷  -- further-608
    (codes "\"all\" set-if \"X\" a# \"\\\\# =\"", Ok (on_line 1 (Apply (ChangeValue Every (codes "X") (edits.SetIf (codes "a#") (codes "\\# =")))) ∷ [])) ∷  -- further-609
    (codes "rule top include : a", Ok (on_line 1 (Apply (AddLine Top (NewRule (codes "include") Single (codes "a")))) ∷ [])) ∷  -- further-610
    (codes "all set-if F a:b \"$(a b)\"", Ok (on_line 1 (Apply (ChangeValue Every (codes "F") (edits.SetIf (codes "a:b") (codes "$(a b)")))) ∷ [])) ∷  -- further-611
    (codes " insert before-rule a <<9\nF += a\n9", Ok (on_line 1 (Apply (ExchangeLines (AtPlace (BeforeRule None (codes "a"))) (block_lines (codes "F += a")))) ∷ [])) ∷  -- further-612
    (codes "assign bottom X += \"$(s (b) a) a\\\\\\\\\"", Ok (on_line 1 (Apply (AddLine Bottom (NewAssign (codes "X") Append (codes "$(s (b) a) a\\\\")))) ∷ [])) ∷  -- further-613
    (codes "all\tset-if\tF\t\"$(a b) \\\\ b $\\\\ x=1\"\t\"\"", Ok (on_line 1 (Apply (ChangeValue Every (codes "F") (edits.SetIf (codes "$(a b) \\ b $\\ x=1") []))) ∷ [])) ∷  -- further-614
    (codes "all\t\"replace\"\t\"F\"\t=\t-O2", Ok (on_line 1 (Apply (EachLine (ChangeEach (codes "F") (edits.ReplaceWord (codes "=") (codes "-O2"))))) ∷ [])) ∷  -- further-615
    (codes "comment-out .RECIPEPREFIX", Ok (on_line 1 (Apply (SwitchLine CommentOut None (codes ".RECIPEPREFIX"))) ∷ [])) ∷  -- further-616
    (codes "nth 4294967295 insert \"after-var\" F <<9\nX = ababa\na\\\n9", Ok (on_line 1 (Apply (ExchangeLines (AtPlace (AfterVar (Some 4294967295) (codes "F"))) (block_lines (codes "X = ababa\na\\")))) ∷ [])) ∷  -- further-617
    (codes "all replace F = \"a\"", Ok (on_line 1 (Apply (EachLine (ChangeEach (codes "F") (edits.ReplaceWord (codes "=") (codes "a"))))) ∷ [])) ∷  -- further-618
    (codes "\"nth\" 2 \"rule-replace\" include <<9\ninclude:\n# n\n\n9", Ok (on_line 1 (Apply (ExchangeLines (OfRuleRun (Some 2) (codes "include")) (block_lines (codes "include:\n# n\n")))) ∷ [])) ∷  -- further-619
    (codes "assign\tafter-var\toverride\tF\t\"+=\"\t\"-g -g\"", Ok (on_line 1 (Apply (AddLine (AfterVar None (codes "override")) (NewAssign (codes "F") Append (codes "-g -g")))) ∷ [])) ∷  -- further-620
    (codes " \"recipes-subst\"\t\"a\"\t\"\"", Ok (on_line 1 (Apply (EachLine (SubstRecipes (codes "a") []))) ∷ [])) ∷  -- further-621
    (codes " insert\tbefore-rule\ti\t<<end\nifdef B\nifdef C\nendif\nendif\nend", Ok (on_line 1 (Apply (ExchangeLines (AtPlace (BeforeRule None (codes "i"))) (block_lines (codes "ifdef B\nifdef C\nendif\nendif")))) ∷ [])) ∷  -- further-622
    (codes "all \"replace\" X 1 x=1", Ok (on_line 1 (Apply (EachLine (ChangeEach (codes "X") (edits.ReplaceWord (codes "1") (codes "x=1"))))) ∷ [])) ∷  -- further-623
    (codes "recipe-subst c \" \" \"a\r\"", Ok (on_line 1 (Apply (EachLine (SubstRecipe None (codes "c") (codes " ") (codes "a\r")))) ∷ [])) ∷  -- further-624
    (codes "assign after-rule include X += \\\\a", Ok (on_line 1 (Apply (AddLine (AfterRule None (codes "include")) (NewAssign (codes "X") Append (codes "\\\\a")))) ∷ [])) ∷  -- further-625
    (codes "all  subst  a.b  cc  \0", Ok (on_line 1 (Apply (EachLine (ChangeEach (codes "a.b") (edits.Substitute (codes "cc") (codes "\0"))))) ∷ [])) ∷  -- further-626
    (codes "rule after-var F c :: a", Ok (on_line 1 (Apply (AddLine (AfterVar None (codes "F")) (NewRule (codes "c") Double (codes "a")))) ∷ [])) ∷  -- further-627
    (codes "nth 4294967295 insert \"after-var\" F <<O1\nifdef B\nifdef C\nendif\nendif\nO1", Ok (on_line 1 (Apply (ExchangeLines (AtPlace (AfterVar (Some 4294967295) (codes "F"))) (block_lines (codes "ifdef B\nifdef C\nendif\nendif")))) ∷ [])) ∷  -- further-628
    (codes "nth  2  assign  after-var  F  F  ::=  \"x=1 b\"", Ok (on_line 1 (Apply (AddLine (AfterVar (Some 2) (codes "F")) (NewAssign (codes "F") PosixSimple (codes "x=1 b")))) ∷ [])) ∷  -- further-629
    (codes "assign after-var \"F\" F = \"${c} x$(a  b)\"", Ok (on_line 1 (Apply (AddLine (AfterVar None (codes "F")) (NewAssign (codes "F") Recursive (codes "${c} x$(a  b)")))) ∷ [])) ∷  -- further-630
    (codes "assign before-rule i F = \\\\a", Ok (on_line 1 (Apply (AddLine (BeforeRule None (codes "i")) (NewAssign (codes "F") Recursive (codes "\\\\a")))) ∷ [])) ∷  -- further-631
    (codes "replace\t\"\"\t$\\x\t\"$\\\\x\"", Ok (on_line 1 (Apply (ChangeLine None [] (edits.ReplaceWord (codes "$\\x") (codes "$\\x")))) ∷ [])) ∷  -- further-632
    (codes "\"all\"\t\"operator\"\t.RECIPEPREFIX\t\"?=\"", Ok (on_line 1 (Apply (EachLine (ChangeEach (codes ".RECIPEPREFIX") (edits.SetOperator Conditional)))) ∷ [])) ∷  -- further-633
    (codes "\"rule-remove\" \"a b\"", Ok (on_line 1 (Apply (ExchangeLines (OfRuleRun None (codes "a b")) [])) ∷ [])) ∷  -- further-634
    (codes "\"all\" replace F a \"$(s (b) a) a\"", Ok (on_line 1 (Apply (EachLine (ChangeEach (codes "F") (edits.ReplaceWord (codes "a") (codes "$(s (b) a) a"))))) ∷ [])) ∷  -- further-635
    (codes "all \"prepend\" F \\#", Ok (on_line 1 (Apply (EachLine (ChangeEach (codes "F") (edits.Prepend (codes "\\#"))))) ∷ [])) ∷  -- further-636
    (codes "insert before-line \"\tcc -s x\" <<_\nF = a \\\n  b\n_", Ok (on_line 1 (Apply (ExchangeLines (BeforeRun None (block_lines (codes "\tcc -s x"))) (block_lines (codes "F = a \\\n  b")))) ∷ [])) ∷  -- further-637
    (codes "nth 4 insert after-var \"F\" <<end\ndefine D\nx\nendef\nend", Ok (on_line 1 (Apply (ExchangeLines (AtPlace (AfterVar (Some 4) (codes "F"))) (block_lines (codes "define D\nx\nendef")))) ∷ [])) ∷  -- further-638
    (codes "insert \"after-line\" \\ <<9\ndefine D\nx\nendef\n9", Ok (on_line 1 (Apply (ExchangeLines (AfterRun None (block_lines (codes "\\"))) (block_lines (codes "define D\nx\nendef")))) ∷ [])) ∷  -- further-639
    (codes "\"nth\" \"001\" assign before-rule c F += -O2", Ok (on_line 1 (Apply (AddLine (BeforeRule (Some 1) (codes "c")) (NewAssign (codes "F") Append (codes "-O2")))) ∷ [])) ∷  -- further-640
    []

answers_17 : map (λ row. read_script row.0) rows_17 ≡ map (λ row. row.1) rows_17
unfolding line_len lines_from
answers_17 = refl

abbrev rows_18 : List (List ℕ × Result (List Step) ℕ)
rows_18 =
    (codes "\"add-after\" \".RECIPEPREFIX\" $x x.c", Ok (on_line 1 (Apply (ChangeLine None (codes ".RECIPEPREFIX") (edits.InsertWord After (codes "$x") (codes "x.c")))) ∷ [])) ∷  -- further-641
    (codes "nth 001 depend-replace c \"a&b\" \"$(f {)\"", Ok (on_line 1 (Apply (ChangePrereqs (Some 1) (codes "c") (ReplacePrereq (codes "a&b") (codes "$(f {)")))) ∷ [])) ∷  -- further-642
    (codes "\"all\" \"prepend\" F -O2", Ok (on_line 1 (Apply (EachLine (ChangeEach (codes "F") (edits.Prepend (codes "-O2"))))) ∷ [])) ∷  -- further-643
    (codes "all prepend \"X\" \"$(t -g)\"", Ok (on_line 1 (Apply (EachLine (ChangeEach (codes "X") (edits.Prepend (codes "$(t -g)"))))) ∷ [])) ∷  -- further-644
    (codes "\"all\" subst \"\" \"\" \" \\\\\"", Ok (on_line 1 (Apply (EachLine (ChangeEach [] (edits.Substitute [] (codes " \\"))))) ∷ [])) ∷  -- further-645
    (codes "\"nth\" 2 comment-out X", Ok (on_line 1 (Apply (SwitchLine CommentOut (Some 2) (codes "X"))) ∷ [])) ∷  -- further-646
    (codes "rule after-rule i d \"::\" \"a b\"", Ok (on_line 1 (Apply (AddLine (AfterRule None (codes "i")) (NewRule (codes "d") Double (codes "a b")))) ∷ [])) ∷  -- further-647
    (codes "insert \"before-var\" \"F\" \"ifdef A\"", Ok (on_line 1 (Apply (ExchangeLines (AtPlace (BeforeVar None (codes "F"))) (block_lines (codes "ifdef A")))) ∷ [])) ∷  -- further-648
    (codes "assign before-var X F = \"$(t -g)\"", Ok (on_line 1 (Apply (AddLine (BeforeVar None (codes "X")) (NewAssign (codes "F") Recursive (codes "$(t -g)")))) ∷ [])) ∷  -- further-649
    (codes "nth 4294967295 \"rule-remove\" c", Ok (on_line 1 (Apply (ExchangeLines (OfRuleRun (Some 4294967295) (codes "c")) [])) ∷ [])) ∷  -- further-650
    (codes "\"depend-replace\" i ${v \"$(w a)\"", Ok (on_line 1 (Apply (ChangePrereqs None (codes "i") (ReplacePrereq (codes "${v") (codes "$(w a)")))) ∷ [])) ∷  -- further-651
    (codes " insert before-line \"\" \"ifdef A\"", Ok (on_line 1 (Apply (ExchangeLines (BeforeRun None (block_lines [])) (block_lines (codes "ifdef A")))) ∷ [])) ∷  -- further-652
    (codes "nth 0 rule after-var .RECIPEPREFIX c \":\" \"a b\"", Ok (on_line 1 (Apply (AddLine (AfterVar (Some 0) (codes ".RECIPEPREFIX")) (NewRule (codes "c") Single (codes "a b")))) ∷ [])) ∷  -- further-653
    (codes "\"prepend\" X \"x=1 -g\"", Ok (on_line 1 (Apply (ChangeLine None (codes "X") (edits.Prepend (codes "x=1 -g")))) ∷ [])) ∷  -- further-654
    (codes "assign before-var X \"override\" += \"\"", Ok (on_line 1 (Apply (AddLine (BeforeVar None (codes "X")) (NewAssign (codes "override") Append []))) ∷ [])) ∷  -- further-655
    (codes "rule bottom \"include\" :: a", Ok (on_line 1 (Apply (AddLine Bottom (NewRule (codes "include") Double (codes "a")))) ∷ [])) ∷  -- further-656
    (codes "all \"prepend\" $(X) -g", Ok (on_line 1 (Apply (EachLine (ChangeEach (codes "$(X)") (edits.Prepend (codes "-g"))))) ∷ [])) ∷  -- further-657
    (codes "line-remove <<X\n\tfor f in x; do \\\n\t  cc $$f; \\\n\tdone\n\ta\\\n\tb\nX", Ok (on_line 1 (Apply (ExchangeLines (OfRun None (block_lines (codes "\tfor f in x; do \\\n\t  cc $$f; \\\n\tdone\n\ta\\\n\tb"))) [])) ∷ [])) ∷  -- further-658
    (codes "\"prepend\"  .RECIPEPREFIX  b", Ok (on_line 1 (Apply (ChangeLine None (codes ".RECIPEPREFIX") (edits.Prepend (codes "b")))) ∷ [])) ∷  -- further-659
    (codes "assign  \"before-rule\"  include  t  :::=  \"$(t -g)\"", Ok (on_line 1 (Apply (AddLine (BeforeRule None (codes "include")) (NewAssign (codes "t") Immediate (codes "$(t -g)")))) ∷ [])) ∷  -- further-660
    (codes " rule \"after-last-var\" F d :: \"\"", Ok (on_line 1 (Apply (AddLine (AfterLastVar (codes "F")) (NewRule (codes "d") Double []))) ∷ [])) ∷  -- further-661
    (codes "insert  after-line  <<end  <<_\n\ta\nend\nX = ababa\nF = aaa aaaa # aa\n-include b.mk\n_", Ok (on_line 1 (Apply (ExchangeLines (AfterRun None (block_lines (codes "\ta"))) (block_lines (codes "X = ababa\nF = aaa aaaa # aa\n-include b.mk")))) ∷ [])) ∷  -- further-662
    (codes "rule after-var $(X) \"include\" : a", Ok (on_line 1 (Apply (AddLine (AfterVar None (codes "$(X)")) (NewRule (codes "include") Single (codes "a")))) ∷ [])) ∷  -- further-663
    (codes "nth 4294967295 add-after $(X) \"a\" -g", Ok (on_line 1 (Apply (ChangeLine (Some 4294967295) (codes "$(X)") (edits.InsertWord After (codes "a") (codes "-g")))) ∷ [])) ∷  -- further-664
    (codes " insert after-last-var F <<end\nF = a \\\nifdef A\nelse\nend", Ok (on_line 1 (Apply (ExchangeLines (AtPlace (AfterLastVar (codes "F"))) (block_lines (codes "F = a \\\nifdef A\nelse")))) ∷ [])) ∷  -- further-665
    (codes "nth 001 insert \"before-var\" override <<end\nifeq (a,b)\n\tababa aaa\nend", Ok (on_line 1 (Apply (ExchangeLines (AtPlace (BeforeVar (Some 1) (codes "override"))) (block_lines (codes "ifeq (a,b)\n\tababa aaa")))) ∷ [])) ∷  -- further-666
    (codes "insert before-rule \"i\" \"i: b& x.o b\"", Ok (on_line 1 (Apply (ExchangeLines (AtPlace (BeforeRule None (codes "i"))) (block_lines (codes "i: b& x.o b")))) ∷ [])) ∷  -- further-667
    (codes "add-after \"F\" ; -O3", Ok (on_line 1 (Apply (ChangeLine None (codes "F") (edits.InsertWord After (codes ";") (codes "-O3")))) ∷ [])) ∷  -- further-668
    (codes "insert after-last-var \"X\" <<E\nendef\ndefine D\nE", Ok (on_line 1 (Apply (ExchangeLines (AtPlace (AfterLastVar (codes "X"))) (block_lines (codes "endef\ndefine D")))) ∷ [])) ∷  -- further-669
    (codes "recipes-subst a \"\r\"", Ok (on_line 1 (Apply (EachLine (SubstRecipes (codes "a") (codes "\r")))) ∷ [])) ∷  -- further-670
    (codes "rule  after-last-var  $(X)  include  ::  \"\"", Ok (on_line 1 (Apply (AddLine (AfterLastVar (codes "$(X)")) (NewRule (codes "include") Double []))) ∷ [])) ∷  -- further-671
    (codes "nth 2 add-before F $\\x x.c", Ok (on_line 1 (Apply (ChangeLine (Some 2) (codes "F") (edits.InsertWord Before (codes "$\\x") (codes "x.c")))) ∷ [])) ∷  -- further-672
    (codes "insert  before-var  \"\"  <<_\nelse\na\r\n_", Ok (on_line 1 (Apply (ExchangeLines (AtPlace (BeforeVar None [])) (block_lines (codes "else\na")))) ∷ [])) ∷  -- further-673
    (codes "insert before-rule i <<E\n# n\nx \\\\\\\nE", Ok (on_line 1 (Apply (ExchangeLines (AtPlace (BeforeRule None (codes "i"))) (block_lines (codes "# n\nx \\\\\\")))) ∷ [])) ∷  -- further-674
    (codes "\"nth\"  0  operator  F  :::=", Ok (on_line 1 (Apply (ChangeLine (Some 0) (codes "F") (edits.SetOperator Immediate))) ∷ [])) ∷  -- further-675
    (codes "assign before-var a.b \"F\" != a\\", Ok (on_line 1 (Apply (AddLine (BeforeVar None (codes "a.b")) (NewAssign (codes "F") Shell (codes "a\\")))) ∷ [])) ∷  -- further-676
    (codes "\"prepend\" \"\" \"a\\\\ b\"", Ok (on_line 1 (Apply (ChangeLine None [] (edits.Prepend (codes "a\\ b")))) ∷ [])) ∷  -- further-677
    (codes "\"insert\" after-rule c <<9\nifdef A\nX = 1\nendif\n9", Ok (on_line 1 (Apply (ExchangeLines (AtPlace (AfterRule None (codes "c"))) (block_lines (codes "ifdef A\nX = 1\nendif")))) ∷ [])) ∷  -- further-678
    (codes "replace F a \"-O2 $(s (b) a)\"", Ok (on_line 1 (Apply (ChangeLine None (codes "F") (edits.ReplaceWord (codes "a") (codes "-O2 $(s (b) a)")))) ∷ [])) ∷  -- further-679
    (codes "nth 1 assign before-rule c F = \"$ \"", Ok (on_line 1 (Apply (AddLine (BeforeRule (Some 1) (codes "c")) (NewAssign (codes "F") Recursive (codes "$ ")))) ∷ [])) ∷  -- further-680
    (codes "all replace F a \"$\\\\x $(a b)\"", Ok (on_line 1 (Apply (EachLine (ChangeEach (codes "F") (edits.ReplaceWord (codes "a") (codes "$\\x $(a b)"))))) ∷ [])) ∷  -- further-681
    (codes "set-if\t.RECIPEPREFIX\t\"$(w a)\"\t\"$(A -g)\"", Ok (on_line 1 (Apply (ChangeValue (One None) (codes ".RECIPEPREFIX") (edits.SetIf (codes "$(w a)") (codes "$(A -g)")))) ∷ [])) ∷  -- further-682
    (codes "insert before-rule \"c\" <<O1\nF = a \\\n  b\nO1", Ok (on_line 1 (Apply (ExchangeLines (AtPlace (BeforeRule None (codes "c"))) (block_lines (codes "F = a \\\n  b")))) ∷ [])) ∷  -- further-683
    (codes "all operator $(X) =", Ok (on_line 1 (Apply (EachLine (ChangeEach (codes "$(X)") (edits.SetOperator Recursive)))) ∷ [])) ∷  -- further-684
    (codes " recipe-subst c true x", Ok (on_line 1 (Apply (EachLine (SubstRecipe None (codes "c") (codes "true") (codes "x")))) ∷ [])) ∷  -- further-685
    (codes "set-if  F  \"\"  \"\"", Ok (on_line 1 (Apply (ChangeValue (One None) (codes "F") (edits.SetIf [] []))) ∷ [])) ∷  -- further-687
    (codes " nth\t\"0\"\t\"rule\"\tbefore-var\t\".RECIPEPREFIX\"\t\"c\"\t:\t\"\"", Ok (on_line 1 (Apply (AddLine (BeforeVar (Some 0) (codes ".RECIPEPREFIX")) (NewRule (codes "c") Single []))) ∷ [])) ∷  -- further-688
    (codes "insert before-var \"F\" <<end\nx \\\n\nend", Ok (on_line 1 (Apply (ExchangeLines (AtPlace (BeforeVar None (codes "F"))) (block_lines (codes "x \\\n")))) ∷ [])) ∷  -- further-689
    (codes "assign\tbottom\t\"F\"\t?=\t\"x$(a  b)\"", Ok (on_line 1 (Apply (AddLine Bottom (NewAssign (codes "F") Conditional (codes "x$(a  b)")))) ∷ [])) ∷  -- further-690
    (codes " add-before \".RECIPEPREFIX\" a -lz", Ok (on_line 1 (Apply (ChangeLine None (codes ".RECIPEPREFIX") (edits.InsertWord Before (codes "a") (codes "-lz")))) ∷ [])) ∷  -- further-691
    []

answers_18 : map (λ row. read_script row.0) rows_18 ≡ map (λ row. row.1) rows_18
unfolding line_len lines_from
answers_18 = refl

abbrev rows_19 : List (List ℕ × Result (List Step) ℕ)
rows_19 =
    (codes "\"assign\" after-last-var \"F\" \"F\" \":=\" -g", Ok (on_line 1 (Apply (AddLine (AfterLastVar (codes "F")) (NewAssign (codes "F") Simple (codes "-g")))) ∷ [])) ∷  -- further-692
    (codes " \"assign\" after-var \".RECIPEPREFIX\" \"X\" ?= a", Ok (on_line 1 (Apply (AddLine (AfterVar None (codes ".RECIPEPREFIX")) (NewAssign (codes "X") Conditional (codes "a")))) ∷ [])) ∷  -- further-693
    (codes "all subst \"F\" \"$(t -g)\" \" x\"", Ok (on_line 1 (Apply (EachLine (ChangeEach (codes "F") (edits.Substitute (codes "$(t -g)") (codes " x"))))) ∷ [])) ∷  -- further-694
    (codes "insert bottom <<EOF\n\t  cc $$f; \\\nifeq (a,b)\ndefine Q\nEOF", Ok (on_line 1 (Apply (ExchangeLines (AtPlace Bottom) (block_lines (codes "\t  cc $$f; \\\nifeq (a,b)\ndefine Q")))) ∷ [])) ∷  -- further-695
    (codes "\"subst\" .RECIPEPREFIX > \"\\\\\"", Ok (on_line 1 (Apply (ChangeLine None (codes ".RECIPEPREFIX") (edits.Substitute (codes ">") (codes "\\")))) ∷ [])) ∷  -- further-696
    (codes "add-before \"\" \"-g\" -O2", Ok (on_line 1 (Apply (ChangeLine None [] (edits.InsertWord Before (codes "-g") (codes "-O2")))) ∷ [])) ∷  -- further-697
    (codes "insert before-rule \"a b\" <<_\nifdef A\nX = 1\nendif\n_", Ok (on_line 1 (Apply (ExchangeLines (AtPlace (BeforeRule None (codes "a b"))) (block_lines (codes "ifdef A\nX = 1\nendif")))) ∷ [])) ∷  -- further-698
    (codes "nth  0  insert  before-rule  include  <<EOF\n\tX = 1\n\ttrue\nEOF", Ok (on_line 1 (Apply (ExchangeLines (AtPlace (BeforeRule (Some 0) (codes "include"))) (block_lines (codes "\tX = 1\n\ttrue")))) ∷ [])) ∷  -- further-699
    (codes "assign\tafter-var\toverride\tX\t\"!=\"\ta\\\\", Ok (on_line 1 (Apply (AddLine (AfterVar None (codes "override")) (NewAssign (codes "X") Shell (codes "a\\\\")))) ∷ [])) ∷  -- further-700
    (codes "\"replace\" \".RECIPEPREFIX\" -O2 \"$ b\"", Ok (on_line 1 (Apply (ChangeLine None (codes ".RECIPEPREFIX") (edits.ReplaceWord (codes "-O2") (codes "$ b")))) ∷ [])) ∷  -- further-701
    (codes "all\tsubst\t.RECIPEPREFIX\t\">\"\tx=1", Ok (on_line 1 (Apply (EachLine (ChangeEach (codes ".RECIPEPREFIX") (edits.Substitute (codes ">") (codes "x=1"))))) ∷ [])) ∷  -- further-702
    (codes "\"insert\" after-rule i <<end\nF = a \\\n  b\nend", Ok (on_line 1 (Apply (ExchangeLines (AtPlace (AfterRule None (codes "i"))) (block_lines (codes "F = a \\\n  b")))) ∷ [])) ∷  -- further-703
    (codes "\"all\"\tset-if\t\"\"\t\"$(a b) a$ b\"\t\"\"", Ok (on_line 1 (Apply (ChangeValue Every [] (edits.SetIf (codes "$(a b) a$ b") []))) ∷ [])) ∷  -- further-704
    (codes "\"assign\" after-rule c F \"::=\" \"-O2 $ b\"", Ok (on_line 1 (Apply (AddLine (AfterRule None (codes "c")) (NewAssign (codes "F") PosixSimple (codes "-O2 $ b")))) ∷ [])) ∷  -- further-705
    (codes "values-subst zz \"\"", Ok (on_line 1 (Apply (EachLine (SubstValues (codes "zz") []))) ∷ [])) ∷  -- further-706
    (codes "insert \"before-var\" F endef", Ok (on_line 1 (Apply (ExchangeLines (AtPlace (BeforeVar None (codes "F"))) (block_lines (codes "endef")))) ∷ [])) ∷  -- further-707
    (codes "nth 4294967295 rule \"before-var\" $(X) c \":\" a", Ok (on_line 1 (Apply (AddLine (BeforeVar (Some 4294967295) (codes "$(X)")) (NewRule (codes "c") Single (codes "a")))) ∷ [])) ∷  -- further-708
    (codes "assign \"after-var\" F X += \"$ b\"", Ok (on_line 1 (Apply (AddLine (AfterVar None (codes "F")) (NewAssign (codes "X") Append (codes "$ b")))) ∷ [])) ∷  -- further-709
    (codes "\"prepend\" X \"$(a b)\"", Ok (on_line 1 (Apply (ChangeLine None (codes "X") (edits.Prepend (codes "$(a b)")))) ∷ [])) ∷  -- further-710
    (codes "all set-if \"F\" \"-g  b\" \"\"", Ok (on_line 1 (Apply (ChangeValue Every (codes "F") (edits.SetIf (codes "-g  b") []))) ∷ [])) ∷  -- further-711
    (codes "\"assign\" before-rule c F ?= -g", Ok (on_line 1 (Apply (AddLine (BeforeRule None (codes "c")) (NewAssign (codes "F") Conditional (codes "-g")))) ∷ [])) ∷  -- further-712
    (codes " assign before-var $(X) F = \"x$(a  b) a\"", Ok (on_line 1 (Apply (AddLine (BeforeVar None (codes "$(X)")) (NewAssign (codes "F") Recursive (codes "x$(a  b) a")))) ∷ [])) ∷  -- further-713
    (codes "\"assign\" after-rule d \"F\" ?= |", Ok (on_line 1 (Apply (AddLine (AfterRule None (codes "d")) (NewAssign (codes "F") Conditional (codes "|")))) ∷ [])) ∷  -- further-714
    (codes "insert \"after-var\" .RECIPEPREFIX <<9\na:\nifdef A\nendif\n9", Ok (on_line 1 (Apply (ExchangeLines (AtPlace (AfterVar None (codes ".RECIPEPREFIX"))) (block_lines (codes "a:\nifdef A\nendif")))) ∷ [])) ∷  -- further-715
    (codes "line-replace <<EOF <<_\n\tfor f in x; do \\\n\t  cc $$f; \\\n\tdone\nx.o&: # c\n\t\ttrue\nEOF\ndefine W\n\tfor f in x; do \\\n\t  cc $$f; \\\n\tdone\nx.o&: # c\n\t\ttrue\nendef\n_", Ok (on_line 1 (Apply (ExchangeLines (OfRun None (block_lines (codes "\tfor f in x; do \\\n\t  cc $$f; \\\n\tdone\nx.o&: # c\n\t\ttrue"))) (block_lines (codes "define W\n\tfor f in x; do \\\n\t  cc $$f; \\\n\tdone\nx.o&: # c\n\t\ttrue\nendef")))) ∷ [])) ∷  -- further-716
    (codes "assign\tafter-last-var\tF\toverride\t=\t\"a$ -include2\"", Ok (on_line 1 (Apply (AddLine (AfterLastVar (codes "F")) (NewAssign (codes "override") Recursive (codes "a$ -include2")))) ∷ [])) ∷  -- further-717
    (codes " rule-remove \"c\"", Ok (on_line 1 (Apply (ExchangeLines (OfRuleRun None (codes "c")) [])) ∷ [])) ∷  -- further-718
    (codes "\"insert\" after-rule d <<end\nd::\nifdef B\nc: a\nend", Ok (on_line 1 (Apply (ExchangeLines (AtPlace (AfterRule None (codes "d"))) (block_lines (codes "d::\nifdef B\nc: a")))) ∷ [])) ∷  -- further-719
    (codes "comment-out \"F\"", Ok (on_line 1 (Apply (SwitchLine CommentOut None (codes "F"))) ∷ [])) ∷  -- further-720
    (codes "all subst \"F\" \"$(a b)\" \\\\", Ok (on_line 1 (Apply (EachLine (ChangeEach (codes "F") (edits.Substitute (codes "$(a b)") (codes "\\\\"))))) ∷ [])) ∷  -- further-721
    (codes "\"nth\" 1 \"add-after\" \"F\" a -O2", Ok (on_line 1 (Apply (ChangeLine (Some 1) (codes "F") (edits.InsertWord After (codes "a") (codes "-O2")))) ∷ [])) ∷  -- further-722
    (codes "\"nth\" \"4294967295\" \"line-remove\" <<EOF\n\tsay \"q\"\nEOF", Ok (on_line 1 (Apply (ExchangeLines (OfRun (Some 4294967295) (block_lines (codes "\tsay \"q\""))) [])) ∷ [])) ∷  -- further-723
    (codes "insert \"after-last-var\" Q <<X\nifdef B\nifdef C\nendif\nendif\nX", Ok (on_line 1 (Apply (ExchangeLines (AtPlace (AfterLastVar (codes "Q"))) (block_lines (codes "ifdef B\nifdef C\nendif\nendif")))) ∷ [])) ∷  -- further-724
    (codes " all set-if F \"$\\\\x b\" \"$(w a)\"", Ok (on_line 1 (Apply (ChangeValue Every (codes "F") (edits.SetIf (codes "$\\x b") (codes "$(w a)")))) ∷ [])) ∷  -- further-726
    (codes " replace override b -g", Ok (on_line 1 (Apply (ChangeLine None (codes "override") (edits.ReplaceWord (codes "b") (codes "-g")))) ∷ [])) ∷  -- further-727
    (codes " \"nth\"\t000\tassign\tbefore-var\tF\tF\t:=\t\"a\"", Ok (on_line 1 (Apply (AddLine (BeforeVar (Some 0) (codes "F")) (NewAssign (codes "F") Simple (codes "a")))) ∷ [])) ∷  -- further-728
    (codes "nth 1 rule-replace \"c\" <<O1\nendef\ndefine D\nO1", Ok (on_line 1 (Apply (ExchangeLines (OfRuleRun (Some 1) (codes "c")) (block_lines (codes "endef\ndefine D")))) ∷ [])) ∷  -- further-729
    (codes "rule after-rule d c \"::\" a", Ok (on_line 1 (Apply (AddLine (AfterRule None (codes "d")) (NewRule (codes "c") Double (codes "a")))) ∷ [])) ∷  -- further-730
    (codes "\"recipes-subst\" n aa", Ok (on_line 1 (Apply (EachLine (SubstRecipes (codes "n") (codes "aa")))) ∷ [])) ∷  -- further-731
    (codes " \"recipes-subst\" cc /usr", Ok (on_line 1 (Apply (EachLine (SubstRecipes (codes "cc") (codes "/usr")))) ∷ [])) ∷  -- further-732
    (codes "comment-out \"override\"", Ok (on_line 1 (Apply (SwitchLine CommentOut None (codes "override"))) ∷ [])) ∷  -- further-733
    (codes "\"insert\" before-line <<9 <<X\nF = a \\\n  b\n9\ndefine D\nx\nendef\nX", Ok (on_line 1 (Apply (ExchangeLines (BeforeRun None (block_lines (codes "F = a \\\n  b"))) (block_lines (codes "define D\nx\nendef")))) ∷ [])) ∷  -- further-734
    (codes "rule-replace c <<9\n-include b.mk\n \n9", Ok (on_line 1 (Apply (ExchangeLines (OfRuleRun None (codes "c")) (block_lines (codes "-include b.mk\n ")))) ∷ [])) ∷  -- further-735
    (codes "rule after-last-var X \"c\" :: a", Ok (on_line 1 (Apply (AddLine (AfterLastVar (codes "X")) (NewRule (codes "c") Double (codes "a")))) ∷ [])) ∷  -- further-736
    (codes "values-subst \"\" yy", Ok (on_line 1 (Apply (EachLine (SubstValues [] (codes "yy")))) ∷ [])) ∷  -- further-737
    (codes "line-remove <<_\n>rm -rf x\n>x \\ y\n_", Ok (on_line 1 (Apply (ExchangeLines (OfRun None (block_lines (codes ">rm -rf x\n>x \\ y"))) [])) ∷ [])) ∷  -- further-738
    (codes "insert after-last-var F \"#X = 1\"", Ok (on_line 1 (Apply (ExchangeLines (AtPlace (AfterLastVar (codes "F"))) (block_lines (codes "#X = 1")))) ∷ [])) ∷  -- further-739
    (codes "nth 2 depend-replace c e$#f $(q:;=|)", Ok (on_line 1 (Apply (ChangePrereqs (Some 2) (codes "c") (ReplacePrereq (codes "e$#f") (codes "$(q:;=|)")))) ∷ [])) ∷  -- further-740
    (codes " rule bottom d : \"a b\"", Ok (on_line 1 (Apply (AddLine Bottom (NewRule (codes "d") Single (codes "a b")))) ∷ [])) ∷  -- further-742
    (codes "subst X \"-g\" x", Ok (on_line 1 (Apply (ChangeLine None (codes "X") (edits.Substitute (codes "-g") (codes "x")))) ∷ [])) ∷  -- further-743
    []

answers_19 : map (λ row. read_script row.0) rows_19 ≡ map (λ row. row.1) rows_19
unfolding line_len lines_from
answers_19 = refl

abbrev rows_20 : List (List ℕ × Result (List Step) ℕ)
rows_20 =
    (codes "assign before-rule c F \"+=\" \"\"", Ok (on_line 1 (Apply (AddLine (BeforeRule None (codes "c")) (NewAssign (codes "F") Append []))) ∷ [])) ∷  -- further-744
    (codes "nth 4 prepend F \"\t\"", Ok (on_line 1 (Apply (ChangeLine (Some 4) (codes "F") (edits.Prepend (codes "\t")))) ∷ [])) ∷  -- further-745
    (codes "\"prepend\"  X  -g", Ok (on_line 1 (Apply (ChangeLine None (codes "X") (edits.Prepend (codes "-g")))) ∷ [])) ∷  -- further-746
    (codes " line-remove \"\t \"", Ok (on_line 1 (Apply (ExchangeLines (OfRun None (block_lines (codes "\t "))) [])) ∷ [])) ∷  -- further-747
    (codes "nth 1 insert before-line \"a: b& $(w a) | b\" \"\"", Ok (on_line 1 (Apply (ExchangeLines (BeforeRun (Some 1) (block_lines (codes "a: b& $(w a) | b"))) (block_lines []))) ∷ [])) ∷  -- further-748
    (codes "rule-replace  \"\"  <<end\n-include b.mk\ninclude a.mk\nend", Ok (on_line 1 (Apply (ExchangeLines (OfRuleRun None []) (block_lines (codes "-include b.mk\ninclude a.mk")))) ∷ [])) ∷  -- further-749
    (codes " add-before F a F", Ok (on_line 1 (Apply (ChangeLine None (codes "F") (edits.InsertWord Before (codes "a") (codes "F")))) ∷ [])) ∷  -- further-751
    (codes "nth \"1\" operator F +=", Ok (on_line 1 (Apply (ChangeLine (Some 1) (codes "F") (edits.SetOperator Append))) ∷ [])) ∷  -- further-752
    (codes "line-remove <<O1\ndefine E\nX\nO1", Ok (on_line 1 (Apply (ExchangeLines (OfRun None (block_lines (codes "define E\nX"))) [])) ∷ [])) ∷  -- further-753
    (codes "insert after-line \"x \\\\\\\\\\\\\" <<E\nX = 1\n\nE", Ok (on_line 1 (Apply (ExchangeLines (AfterRun None (block_lines (codes "x \\\\\\"))) (block_lines (codes "X = 1\n")))) ∷ [])) ∷  -- further-754
    (codes "line-replace\t<<end\t<<end\nF::= -g# a \\\\\noverride=  \n  b\nend\nx \\\n\nend", Ok (on_line 1 (Apply (ExchangeLines (OfRun None (block_lines (codes "F::= -g# a \\\\\noverride=  \n  b"))) (block_lines (codes "x \\\n")))) ∷ [])) ∷  -- further-755
    (codes "nth 2 operator F \"!=\"", Ok (on_line 1 (Apply (ChangeLine (Some 2) (codes "F") (edits.SetOperator Shell))) ∷ [])) ∷  -- further-756
    (codes "values-subst \"1\" \"\"", Ok (on_line 1 (Apply (EachLine (SubstValues (codes "1") []))) ∷ [])) ∷  -- further-757
    (codes "nth  001  rule-replace  c  <<EOF\nc:\nifdef A\n\ta\nendif\n\n\tb\nF = aaa aaaa # aa\nEOF", Ok (on_line 1 (Apply (ExchangeLines (OfRuleRun (Some 1) (codes "c")) (block_lines (codes "c:\nifdef A\n\ta\nendif\n\n\tb\nF = aaa aaaa # aa")))) ∷ [])) ∷  -- further-758
    (codes "operator a.b :::=", Ok (on_line 1 (Apply (ChangeLine None (codes "a.b") (edits.SetOperator Immediate))) ∷ [])) ∷  -- further-759
    (codes "all set-if F \"aaa aaaa\" $", Ok (on_line 1 (Apply (ChangeValue Every (codes "F") (edits.SetIf (codes "aaa aaaa") (codes "$")))) ∷ [])) ∷  -- further-760
    (codes "all  operator  \"F\"  +=", Ok (on_line 1 (Apply (EachLine (ChangeEach (codes "F") (edits.SetOperator Append)))) ∷ [])) ∷  -- further-761
    (codes "depend-replace \"c\" a a&b", Ok (on_line 1 (Apply (ChangePrereqs None (codes "c") (ReplacePrereq (codes "a") (codes "a&b")))) ∷ [])) ∷  -- further-762
    (codes "\"nth\" 1 \"rule-replace\" \"c\" <<O1\nX = 1\nvpath %.c a\nO1", Ok (on_line 1 (Apply (ExchangeLines (OfRuleRun (Some 1) (codes "c")) (block_lines (codes "X = 1\nvpath %.c a")))) ∷ [])) ∷  -- further-763
    (codes "rule \"top\" c :: a", Ok (on_line 1 (Apply (AddLine Top (NewRule (codes "c") Double (codes "a")))) ∷ [])) ∷  -- further-764
    (codes "operator  \"F\"  =", Ok (on_line 1 (Apply (ChangeLine None (codes "F") (edits.SetOperator Recursive))) ∷ [])) ∷  -- further-765
    (codes "nth 001 \"set-if\" \"F\" a \"a  b\"", Ok (on_line 1 (Apply (ChangeValue (One (Some 1)) (codes "F") (edits.SetIf (codes "a") (codes "a  b")))) ∷ [])) ∷  -- further-766
    (codes "all set-if X \"$(a b)  a:b\" \"$(s (b) a)\"", Ok (on_line 1 (Apply (ChangeValue Every (codes "X") (edits.SetIf (codes "$(a b)  a:b") (codes "$(s (b) a)")))) ∷ [])) ∷  -- further-767
    (codes "depend-replace\t\"c\"\t\"$(w a)\"\t\"Ã©\"", Ok (on_line 1 (Apply (ChangePrereqs None (codes "c") (ReplacePrereq (codes "$(w a)") (codes "Ã©")))) ∷ [])) ∷  -- further-769
    (codes " nth\t\"1\"\trule-replace\ti\t<<end\ni:  | a d\n\ta\\\nend", Ok (on_line 1 (Apply (ExchangeLines (OfRuleRun (Some 1) (codes "i")) (block_lines (codes "i:  | a d\n\ta\\")))) ∷ [])) ∷  -- further-770
    (codes "add-after F -g \"x.c\"", Ok (on_line 1 (Apply (ChangeLine None (codes "F") (edits.InsertWord After (codes "-g") (codes "x.c")))) ∷ [])) ∷  -- further-771
    (codes "\"assign\" bottom F ?= $x", Ok (on_line 1 (Apply (AddLine Bottom (NewAssign (codes "F") Conditional (codes "$x")))) ∷ [])) ∷  -- further-772
    (codes " line-remove <<9\nF\\\n::=b\\\nb a -O2\n9", Ok (on_line 1 (Apply (ExchangeLines (OfRun None (block_lines (codes "F\\\n::=b\\\nb a -O2"))) [])) ∷ [])) ∷  -- further-773
    (codes "depend-replace \"include\" a $x", Ok (on_line 1 (Apply (ChangePrereqs None (codes "include") (ReplacePrereq (codes "a") (codes "$x")))) ∷ [])) ∷  -- further-774
    (codes "recipes-subst \"a\" }", Ok (on_line 1 (Apply (EachLine (SubstRecipes (codes "a") (codes "}")))) ∷ [])) ∷  -- further-775
    (codes "set-if F \"b $(A -g)\" a", Ok (on_line 1 (Apply (ChangeValue (One None) (codes "F") (edits.SetIf (codes "b $(A -g)") (codes "a")))) ∷ [])) ∷  -- further-776
    (codes "nth \"0\" subst X cc \" \"", Ok (on_line 1 (Apply (ChangeLine (Some 0) (codes "X") (edits.Substitute (codes "cc") (codes " ")))) ∷ [])) ∷  -- further-777
    (codes "nth 1 \"assign\" after-rule c F :::= \"a:b\"", Ok (on_line 1 (Apply (AddLine (AfterRule (Some 1) (codes "c")) (NewAssign (codes "F") Immediate (codes "a:b")))) ∷ [])) ∷  -- further-778
    (codes " nth\t\"4294967295\"\trule-remove\td", Ok (on_line 1 (Apply (ExchangeLines (OfRuleRun (Some 4294967295) (codes "d")) [])) ∷ [])) ∷  -- further-779
    (codes "operator \"\" ?=", Ok (on_line 1 (Apply (ChangeLine None [] (edits.SetOperator Conditional))) ∷ [])) ∷  -- further-780
    (codes "replace \"\" $\\x \"b x$(a  b)\"", Ok (on_line 1 (Apply (ChangeLine None [] (edits.ReplaceWord (codes "$\\x") (codes "b x$(a  b)")))) ∷ [])) ∷  -- further-781
    (codes "nth \"1\" add-before F a x.c", Ok (on_line 1 (Apply (ChangeLine (Some 1) (codes "F") (edits.InsertWord Before (codes "a") (codes "x.c")))) ∷ [])) ∷  -- further-782
    (codes "\"set-if\" X \"$(w a)\" ;", Ok (on_line 1 (Apply (ChangeValue (One None) (codes "X") (edits.SetIf (codes "$(w a)") (codes ";")))) ∷ [])) ∷  -- further-783
    (codes "\"recipes-subst\" cc \"\"", Ok (on_line 1 (Apply (EachLine (SubstRecipes (codes "cc") []))) ∷ [])) ∷  -- further-784
    (codes "depend-replace\ta\ta\t${c}", Ok (on_line 1 (Apply (ChangePrereqs None (codes "a") (ReplacePrereq (codes "a") (codes "${c}")))) ∷ [])) ∷  -- further-785
    (codes "add-before  override  $\\x  -lz", Ok (on_line 1 (Apply (ChangeLine None (codes "override") (edits.InsertWord Before (codes "$\\x") (codes "-lz")))) ∷ [])) ∷  -- further-786
    (codes "\"nth\" \"2\" insert after-rule $$ <<EOF\n \nX = ababa\ninclude a.mk\nEOF", Ok (on_line 1 (Apply (ExchangeLines (AtPlace (AfterRule (Some 2) (codes "$$"))) (block_lines (codes " \nX = ababa\ninclude a.mk")))) ∷ [])) ∷  -- further-787
    (codes "nth \"002\" add-after F -g \"$(new a)\"", Ok (on_line 1 (Apply (ChangeLine (Some 2) (codes "F") (edits.InsertWord After (codes "-g") (codes "$(new a)")))) ∷ [])) ∷  -- further-788
    (codes "\"subst\" X \" a:b -g\" \"\"", Ok (on_line 1 (Apply (ChangeLine None (codes "X") (edits.Substitute (codes " a:b -g") []))) ∷ [])) ∷  -- further-789
    (codes " values-subst\tt\t\"\"", Ok (on_line 1 (Apply (EachLine (SubstValues (codes "t") []))) ∷ [])) ∷  -- further-790
    (codes "rule after-last-var a.b %.o :: \"a b\"", Ok (on_line 1 (Apply (AddLine (AfterLastVar (codes "a.b")) (NewRule (codes "%.o") Double (codes "a b")))) ∷ [])) ∷  -- further-791
    (codes "rule-replace \"c\" <<EOF\nc:\n\ta \\\n\tb\nEOF", Ok (on_line 1 (Apply (ExchangeLines (OfRuleRun None (codes "c")) (block_lines (codes "c:\n\ta \\\n\tb")))) ∷ [])) ∷  -- further-792
    (codes "assign top F := \"$(a b) a$ b\"", Ok (on_line 1 (Apply (AddLine Top (NewAssign (codes "F") Simple (codes "$(a b) a$ b")))) ∷ [])) ∷  -- further-793
    (codes "insert before-line <<end <<end\noverride F= x=1\\\n\tx=1\t$(a\tb)\nend\n\tcc -s x\noverride F= x=1\\\n\tx=1\t$(a\tb)\nend", Ok (on_line 1 (Apply (ExchangeLines (BeforeRun None (block_lines (codes "override F= x=1\\\n\tx=1\t$(a\tb)"))) (block_lines (codes "\tcc -s x\noverride F= x=1\\\n\tx=1\t$(a\tb)")))) ∷ [])) ∷  -- further-794
    (codes "\"nth\"  001  \"insert\"  after-var  F  \"-include b.mk\"", Ok (on_line 1 (Apply (ExchangeLines (AtPlace (AfterVar (Some 1) (codes "F"))) (block_lines (codes "-include b.mk")))) ∷ [])) ∷  -- further-795
    []

answers_20 : map (λ row. read_script row.0) rows_20 ≡ map (λ row. row.1) rows_20
unfolding line_len lines_from
answers_20 = refl

abbrev rows_21 : List (List ℕ × Result (List Step) ℕ)
rows_21 =
    (codes "nth 001 \"recipe-subst\" d a \"\"", Ok (on_line 1 (Apply (EachLine (SubstRecipe (Some 1) (codes "d") (codes "a") []))) ∷ [])) ∷  -- further-796
    (codes "insert  bottom  <<O1\nendif\nifdef B\nO1", Ok (on_line 1 (Apply (ExchangeLines (AtPlace Bottom) (block_lines (codes "endif\nifdef B")))) ∷ [])) ∷  -- further-797
    (codes "prepend \"F\" x=1", Ok (on_line 1 (Apply (ChangeLine None (codes "F") (edits.Prepend (codes "x=1")))) ∷ [])) ∷  -- further-798
    (codes "add-before F ; \"$(new a)\"", Ok (on_line 1 (Apply (ChangeLine None (codes "F") (edits.InsertWord Before (codes ";") (codes "$(new a)")))) ∷ [])) ∷  -- further-799
    (codes "values-subst  \" \"  yy", Ok (on_line 1 (Apply (EachLine (SubstValues (codes " ") (codes "yy")))) ∷ [])) ∷  -- further-800
    (codes "\"all\" set-if F -g \"\"", Ok (on_line 1 (Apply (ChangeValue Every (codes "F") (edits.SetIf (codes "-g") []))) ∷ [])) ∷  -- further-801
    (codes " subst .RECIPEPREFIX \\ \"\"", Ok (on_line 1 (Apply (ChangeLine None (codes ".RECIPEPREFIX") (edits.Substitute (codes "\\") []))) ∷ [])) ∷  -- further-802
    (codes "\"add-before\" F \"-g\" -O3", Ok (on_line 1 (Apply (ChangeLine None (codes "F") (edits.InsertWord Before (codes "-g") (codes "-O3")))) ∷ [])) ∷  -- further-803
    (codes "rule-remove \"c\"", Ok (on_line 1 (Apply (ExchangeLines (OfRuleRun None (codes "c")) [])) ∷ [])) ∷  -- further-804
    (codes "\"depend-replace\" \"\" a \"$(p #)\"", Ok (on_line 1 (Apply (ChangePrereqs None [] (ReplacePrereq (codes "a") (codes "$(p #)")))) ∷ [])) ∷  -- further-805
    (codes "assign after-rule c a.b = \"a\\\\ b\"", Ok (on_line 1 (Apply (AddLine (AfterRule None (codes "c")) (NewAssign (codes "a.b") Recursive (codes "a\\ b")))) ∷ [])) ∷  -- further-807
    (codes "line-replace \r \r", Ok (on_line 1 (Apply (ExchangeLines (OfRun None (block_lines (codes "\r"))) (block_lines (codes "\r")))) ∷ [])) ∷  -- further-808
    (codes " rule-replace \"include\" <<EOF\ninclude:\n\ttrue\nEOF", Ok (on_line 1 (Apply (ExchangeLines (OfRuleRun None (codes "include")) (block_lines (codes "include:\n\ttrue")))) ∷ [])) ∷  -- further-809
    (codes "\"assign\"\tafter-last-var\tF\tF\t:::=\t\"x$(a  b)\"", Ok (on_line 1 (Apply (AddLine (AfterLastVar (codes "F")) (NewAssign (codes "F") Immediate (codes "x$(a  b)")))) ∷ [])) ∷  -- further-811
    (codes "values-subst (u x", Ok (on_line 1 (Apply (EachLine (SubstValues (codes "(u") (codes "x")))) ∷ [])) ∷  -- further-812
    (codes "insert \"before-rule\" d <<X\nX = 1\n\nX", Ok (on_line 1 (Apply (ExchangeLines (AtPlace (BeforeRule None (codes "d"))) (block_lines (codes "X = 1\n")))) ∷ [])) ∷  -- further-813
    (codes "\"subst\" F aaa \r", Ok (on_line 1 (Apply (ChangeLine None (codes "F") (edits.Substitute (codes "aaa") (codes "\r")))) ∷ [])) ∷  -- further-814
    (codes "set-if F \"a $# x$(a  b)\" \"$(A -g) a\\\\\\\\\"", Ok (on_line 1 (Apply (ChangeValue (One None) (codes "F") (edits.SetIf (codes "a $# x$(a  b)") (codes "$(A -g) a\\\\")))) ∷ [])) ∷  -- further-815
    (codes "\"all\" \"operator\" F \"!=\"", Ok (on_line 1 (Apply (EachLine (ChangeEach (codes "F") (edits.SetOperator Shell)))) ∷ [])) ∷  -- further-816
    (codes "\"comment-out\" \"X\"", Ok (on_line 1 (Apply (SwitchLine CommentOut None (codes "X"))) ∷ [])) ∷  -- further-817
    (codes "nth 2 add-after X \"a\\\\$ \" -O3", Ok (on_line 1 (Apply (ChangeLine (Some 2) (codes "X") (edits.InsertWord After (codes "a\\$ ") (codes "-O3")))) ∷ [])) ∷  -- further-818
    (codes "\"all\" \"replace\" X \"a\" a", Ok (on_line 1 (Apply (EachLine (ChangeEach (codes "X") (edits.ReplaceWord (codes "a") (codes "a"))))) ∷ [])) ∷  -- further-819
    (codes "assign \"after-var\" X F ::= \"\"", Ok (on_line 1 (Apply (AddLine (AfterVar None (codes "X")) (NewAssign (codes "F") PosixSimple []))) ∷ [])) ∷  -- further-820
    (codes "depend-replace \"c\" \"$(q:;=|)\" ${g(}", Ok (on_line 1 (Apply (ChangePrereqs None (codes "c") (ReplacePrereq (codes "$(q:;=|)") (codes "${g(}")))) ∷ [])) ∷  -- further-821
    (codes "\"assign\"\tafter-rule\tc\tF\t:=\t\"a\\\\ b\"", Ok (on_line 1 (Apply (AddLine (AfterRule None (codes "c")) (NewAssign (codes "F") Simple (codes "a\\ b")))) ∷ [])) ∷  -- further-822
    (codes "all replace F -g \"-O2\"", Ok (on_line 1 (Apply (EachLine (ChangeEach (codes "F") (edits.ReplaceWord (codes "-g") (codes "-O2"))))) ∷ [])) ∷  -- further-823
    (codes "uncomment .RECIPEPREFIX", Ok (on_line 1 (Apply (SwitchLine Uncomment None (codes ".RECIPEPREFIX"))) ∷ [])) ∷  -- further-824
    (codes "\"nth\" 0 rule-replace c <<O1\n# a \\\n b\nO1", Ok (on_line 1 (Apply (ExchangeLines (OfRuleRun (Some 0) (codes "c")) (block_lines (codes "# a \\\n b")))) ∷ [])) ∷  -- further-825
    (codes "\"insert\"  \"before-var\"  F  <<9\n\trm -rf x\nexport F != ${v a \\\nx$(a  b)\n\ttrue\n9", Ok (on_line 1 (Apply (ExchangeLines (AtPlace (BeforeVar None (codes "F"))) (block_lines (codes "\trm -rf x\nexport F != ${v a \\\nx$(a  b)\n\ttrue")))) ∷ [])) ∷  -- further-826
    (codes "operator\tF\t\"::=\"", Ok (on_line 1 (Apply (ChangeLine None (codes "F") (edits.SetOperator PosixSimple))) ∷ [])) ∷  -- further-827
    (codes "nth \"0\" recipe-subst %.o \" \" \"\"", Ok (on_line 1 (Apply (EachLine (SubstRecipe (Some 0) (codes "%.o") (codes " ") []))) ∷ [])) ∷  -- further-828
    (codes "assign after-last-var \".RECIPEPREFIX\" a.b = \"x$(a  b)\"", Ok (on_line 1 (Apply (AddLine (AfterLastVar (codes ".RECIPEPREFIX")) (NewAssign (codes "a.b") Recursive (codes "x$(a  b)")))) ∷ [])) ∷  -- further-829
    (codes "insert \"after-last-var\" F \"F = a \\\\\"", Ok (on_line 1 (Apply (ExchangeLines (AtPlace (AfterLastVar (codes "F"))) (block_lines (codes "F = a \\")))) ∷ [])) ∷  -- further-830
    (codes "recipe-subst\t\"%.o\"\t\"\"\t-O3", Ok (on_line 1 (Apply (EachLine (SubstRecipe None (codes "%.o") [] (codes "-O3")))) ∷ [])) ∷  -- further-831
    (codes "replace X \"$(s (b) a)\" -g", Ok (on_line 1 (Apply (ChangeLine None (codes "X") (edits.ReplaceWord (codes "$(s (b) a)") (codes "-g")))) ∷ [])) ∷  -- further-832
    (codes "line-remove <<EOF\nc:  | a d\n\tfor f in x; do \\\n\t  cc $$f; \\\n\tdone\nEOF", Ok (on_line 1 (Apply (ExchangeLines (OfRun None (block_lines (codes "c:  | a d\n\tfor f in x; do \\\n\t  cc $$f; \\\n\tdone"))) [])) ∷ [])) ∷  -- further-833
    (codes "all\tprepend\tX\t\"\"", Ok (on_line 1 (Apply (EachLine (ChangeEach (codes "X") (edits.Prepend [])))) ∷ [])) ∷  -- further-834
    (codes "\"all\" operator X :::=", Ok (on_line 1 (Apply (EachLine (ChangeEach (codes "X") (edits.SetOperator Immediate)))) ∷ [])) ∷  -- further-835
    (codes "nth \"1\" add-after F \"$(w a)\" -lz", Ok (on_line 1 (Apply (ChangeLine (Some 1) (codes "F") (edits.InsertWord After (codes "$(w a)") (codes "-lz")))) ∷ [])) ∷  -- further-836
    (codes "nth 001 assign before-rule c \"F\" ?= \"\"", Ok (on_line 1 (Apply (AddLine (BeforeRule (Some 1) (codes "c")) (NewAssign (codes "F") Conditional []))) ∷ [])) ∷  -- further-837
    (codes "insert\tbefore-var\t\"override\"\t<<end\n# a \\\n b\nend", Ok (on_line 1 (Apply (ExchangeLines (AtPlace (BeforeVar None (codes "override"))) (block_lines (codes "# a \\\n b")))) ∷ [])) ∷  -- further-838
    (codes "\"nth\"  1  \"assign\"  before-var  \"F\"  F  :::=  a", Ok (on_line 1 (Apply (AddLine (BeforeVar (Some 1) (codes "F")) (NewAssign (codes "F") Immediate (codes "a")))) ∷ [])) ∷  -- further-839
    (codes "depend-replace  c  a&b  \"$(p #)\"", Ok (on_line 1 (Apply (ChangePrereqs None (codes "c") (ReplacePrereq (codes "a&b") (codes "$(p #)")))) ∷ [])) ∷  -- further-841
    (codes "assign after-rule include X != \"a:b $(t -g)\"", Ok (on_line 1 (Apply (AddLine (AfterRule None (codes "include")) (NewAssign (codes "X") Shell (codes "a:b $(t -g)")))) ∷ [])) ∷  -- further-842
    (codes "rule before-var F c \":\" \"\"", Ok (on_line 1 (Apply (AddLine (BeforeVar None (codes "F")) (NewRule (codes "c") Single []))) ∷ [])) ∷  -- further-843
    (codes "all replace \"F\" -O2 \"= $(A -g)\"", Ok (on_line 1 (Apply (EachLine (ChangeEach (codes "F") (edits.ReplaceWord (codes "-O2") (codes "= $(A -g)"))))) ∷ [])) ∷  -- further-844
    (codes "add-after \"\" \"a\\\\ b\" \"=\"", Ok (on_line 1 (Apply (ChangeLine None [] (edits.InsertWord After (codes "a\\ b") (codes "=")))) ∷ [])) ∷  -- further-845
    (codes "\"replace\" \"F\" a \"a b\"", Ok (on_line 1 (Apply (ChangeLine None (codes "F") (edits.ReplaceWord (codes "a") (codes "a b")))) ∷ [])) ∷  -- further-846
    (codes "line-replace <<X <<_\nF =$(a b) b\\\n x=1\\\n\nX\nF =$(a b) b\\\n x=1\\\n\n# X = \0\n_", Ok (on_line 1 (Apply (ExchangeLines (OfRun None (block_lines (codes "F =$(a b) b\\\n x=1\\\n"))) (block_lines (codes "F =$(a b) b\\\n x=1\\\n\n# X = \0")))) ∷ [])) ∷  -- further-847
    (codes "\"insert\"  after-rule  \"a b\"  \"\"", Ok (on_line 1 (Apply (ExchangeLines (AtPlace (AfterRule None (codes "a b"))) (block_lines []))) ∷ [])) ∷  -- further-848
    []

answers_21 : map (λ row. read_script row.0) rows_21 ≡ map (λ row. row.1) rows_21
unfolding line_len lines_from
answers_21 = refl

abbrev rows_22 : List (List ℕ × Result (List Step) ℕ)
rows_22 =
    (codes " \"uncomment\"  \"F\"", Ok (on_line 1 (Apply (SwitchLine Uncomment None (codes "F"))) ∷ [])) ∷  -- further-849
    (codes "\"insert\"  after-line  <<9  <<X\nzz\n9\nendef\ndefine D\nX", Ok (on_line 1 (Apply (ExchangeLines (AfterRun None (block_lines (codes "zz"))) (block_lines (codes "endef\ndefine D")))) ∷ [])) ∷  -- further-850
    (codes "uncomment \"F\"", Ok (on_line 1 (Apply (SwitchLine Uncomment None (codes "F"))) ∷ [])) ∷  -- further-851
    (codes " rule after-rule \"include\" c \"::\" \"\"", Ok (on_line 1 (Apply (AddLine (AfterRule None (codes "include")) (NewRule (codes "c") Double []))) ∷ [])) ∷  -- further-852
    (codes "\"insert\" after-line <<end \"F = a \\\\\"\nc: a\n\nend", Ok (on_line 1 (Apply (ExchangeLines (AfterRun None (block_lines (codes "c: a\n"))) (block_lines (codes "F = a \\")))) ∷ [])) ∷  -- further-853
    (codes "all replace X 1 a", Ok (on_line 1 (Apply (EachLine (ChangeEach (codes "X") (edits.ReplaceWord (codes "1") (codes "a"))))) ∷ [])) ∷  -- further-854
    (codes "nth  0  subst  \"F\"  \"\"  \"x\"", Ok (on_line 1 (Apply (ChangeLine (Some 0) (codes "F") (edits.Substitute [] (codes "x")))) ∷ [])) ∷  -- further-855
    (codes "all prepend F $x", Ok (on_line 1 (Apply (EachLine (ChangeEach (codes "F") (edits.Prepend (codes "$x"))))) ∷ [])) ∷  -- further-856
    (codes "\"all\"  set-if  F  -g  \"$ a:b\"", Ok (on_line 1 (Apply (ChangeValue Every (codes "F") (edits.SetIf (codes "-g") (codes "$ a:b")))) ∷ [])) ∷  -- further-857
    (codes "all \"subst\" override a \"x\"", Ok (on_line 1 (Apply (EachLine (ChangeEach (codes "override") (edits.Substitute (codes "a") (codes "x"))))) ∷ [])) ∷  -- further-858
    (codes "insert top <<X\nendef\ndefine D\nX", Ok (on_line 1 (Apply (ExchangeLines (AtPlace Top) (block_lines (codes "endef\ndefine D")))) ∷ [])) ∷  -- further-859
    (codes "\"rule\" before-var F d :: \"a b\"", Ok (on_line 1 (Apply (AddLine (BeforeVar None (codes "F")) (NewRule (codes "d") Double (codes "a b")))) ∷ [])) ∷  -- further-860
    (codes "\"replace\" F $$ \"$ b\"", Ok (on_line 1 (Apply (ChangeLine None (codes "F") (edits.ReplaceWord (codes "$$") (codes "$ b")))) ∷ [])) ∷  -- further-861
    (codes "nth 0 comment-out $(X)", Ok (on_line 1 (Apply (SwitchLine CommentOut (Some 0) (codes "$(X)"))) ∷ [])) ∷  -- further-862
    (codes " nth 004 prepend F -g", Ok (on_line 1 (Apply (ChangeLine (Some 4) (codes "F") (edits.Prepend (codes "-g")))) ∷ [])) ∷  -- further-863
    (codes "nth 2 rule \"after-rule\" c d :: \"\"", Ok (on_line 1 (Apply (AddLine (AfterRule (Some 2) (codes "c")) (NewRule (codes "d") Double []))) ∷ [])) ∷  -- further-864
    (codes "assign\tafter-var\t\"override\"\tF\t:::=\t\"${c} $x\"", Ok (on_line 1 (Apply (AddLine (AfterVar None (codes "override")) (NewAssign (codes "F") Immediate (codes "${c} $x")))) ∷ [])) ∷  -- further-865
    (codes " line-remove a\0b", Ok (on_line 1 (Apply (ExchangeLines (OfRun None (block_lines (codes "a\0b"))) [])) ∷ [])) ∷  -- further-866
    (codes "rule before-rule \"c\" d : \"\"", Ok (on_line 1 (Apply (AddLine (BeforeRule None (codes "c")) (NewRule (codes "d") Single []))) ∷ [])) ∷  -- further-867
    (codes "all subst F \"\" \"a b\"", Ok (on_line 1 (Apply (EachLine (ChangeEach (codes "F") (edits.Substitute [] (codes "a b"))))) ∷ [])) ∷  -- further-868
    (codes "prepend X -g", Ok (on_line 1 (Apply (ChangeLine None (codes "X") (edits.Prepend (codes "-g")))) ∷ [])) ∷  -- further-869
    (codes "recipe-subst \"d\" b aa", Ok (on_line 1 (Apply (EachLine (SubstRecipe None (codes "d") (codes "b") (codes "aa")))) ∷ [])) ∷  -- further-870
    (codes "nth 0 replace X -O2 \"$ b\"", Ok (on_line 1 (Apply (ChangeLine (Some 0) (codes "X") (edits.ReplaceWord (codes "-O2") (codes "$ b")))) ∷ [])) ∷  -- further-871
    (codes "all subst \"F\" cc \"\"", Ok (on_line 1 (Apply (EachLine (ChangeEach (codes "F") (edits.Substitute (codes "cc") [])))) ∷ [])) ∷  -- further-872
    (codes "nth \"001\" depend-replace c b a", Ok (on_line 1 (Apply (ChangePrereqs (Some 1) (codes "c") (ReplacePrereq (codes "b") (codes "a")))) ∷ [])) ∷  -- further-874
    (codes "assign  \"after-rule\"  \"\"  X  :=  \"; $\\\\x\"", Ok (on_line 1 (Apply (AddLine (AfterRule None []) (NewAssign (codes "X") Simple (codes "; $\\x")))) ∷ [])) ∷  -- further-875
    (codes "subst \"X\" \"cc\" \"ab\"", Ok (on_line 1 (Apply (ChangeLine None (codes "X") (edits.Substitute (codes "cc") (codes "ab")))) ∷ [])) ∷  -- further-876
    (codes "rule-replace i <<EOF\n# a \\\n b\nEOF", Ok (on_line 1 (Apply (ExchangeLines (OfRuleRun None (codes "i")) (block_lines (codes "# a \\\n b")))) ∷ [])) ∷  -- further-877
    (codes "insert before-rule c <<O1\nc: d\n\tcp $< $@\nO1", Ok (on_line 1 (Apply (ExchangeLines (AtPlace (BeforeRule None (codes "c"))) (block_lines (codes "c: d\n\tcp $< $@")))) ∷ [])) ∷  -- further-878
    (codes "rule bottom d : \"\"", Ok (on_line 1 (Apply (AddLine Bottom (NewRule (codes "d") Single []))) ∷ [])) ∷  -- further-880
    (codes "nth 4294967295 \"rule\" after-var \"a.b\" c \":\" a", Ok (on_line 1 (Apply (AddLine (AfterVar (Some 4294967295) (codes "a.b")) (NewRule (codes "c") Single (codes "a")))) ∷ [])) ∷  -- further-881
    (codes "all\t\"subst\"\tF\t\"-g\"\t\"\"", Ok (on_line 1 (Apply (EachLine (ChangeEach (codes "F") (edits.Substitute (codes "-g") [])))) ∷ [])) ∷  -- further-882
    (codes "recipes-subst \"\\\\\" \"x=1\"", Ok (on_line 1 (Apply (EachLine (SubstRecipes (codes "\\") (codes "x=1")))) ∷ [])) ∷  -- further-883
    (codes "all subst F \" a$  \" )", Ok (on_line 1 (Apply (EachLine (ChangeEach (codes "F") (edits.Substitute (codes " a$  ") (codes ")"))))) ∷ [])) ∷  -- further-884
    (codes "rule \"after-last-var\" \"F\" c : \"a b\"", Ok (on_line 1 (Apply (AddLine (AfterLastVar (codes "F")) (NewRule (codes "c") Single (codes "a b")))) ∷ [])) ∷  -- further-885
    (codes "insert before-var \"F\" <<9\n#X = 1\n\tababa aaa\n9", Ok (on_line 1 (Apply (ExchangeLines (AtPlace (BeforeVar None (codes "F"))) (block_lines (codes "#X = 1\n\tababa aaa")))) ∷ [])) ∷  -- further-886
    (codes "replace X ababa \"$ b\"", Ok (on_line 1 (Apply (ChangeLine None (codes "X") (edits.ReplaceWord (codes "ababa") (codes "$ b")))) ∷ [])) ∷  -- further-887
    (codes "set-if\tF\t\" a\"\t\"\"", Ok (on_line 1 (Apply (ChangeValue (One None) (codes "F") (edits.SetIf (codes " a") []))) ∷ [])) ∷  -- further-888
    (codes "insert after-line <<_ \"ifdef A\"\n# n\n_", Ok (on_line 1 (Apply (ExchangeLines (AfterRun None (block_lines (codes "# n"))) (block_lines (codes "ifdef A")))) ∷ [])) ∷  -- further-889
    (codes "depend-replace a x.o \\", Ok (on_line 1 (Apply (ChangePrereqs None (codes "a") (ReplacePrereq (codes "x.o") (codes "\\")))) ∷ [])) ∷  -- further-890
    (codes "insert\tafter-last-var\tF\t<<O1\nendif\nifdef B\nO1", Ok (on_line 1 (Apply (ExchangeLines (AtPlace (AfterLastVar (codes "F"))) (block_lines (codes "endif\nifdef B")))) ∷ [])) ∷  -- further-891
    (codes "nth\t0\tinsert\tafter-var\tF\t<<E\nifdef A\nX = 1\nendif\nE", Ok (on_line 1 (Apply (ExchangeLines (AtPlace (AfterVar (Some 0) (codes "F"))) (block_lines (codes "ifdef A\nX = 1\nendif")))) ∷ [])) ∷  -- further-892
    (codes "recipe-subst  c  \"true\"  \"\"", Ok (on_line 1 (Apply (EachLine (SubstRecipe None (codes "c") (codes "true") []))) ∷ [])) ∷  -- further-893
    (codes "insert \"bottom\" <<E\n\tcc -s x\n \n\t  cc $$f; \\\nE", Ok (on_line 1 (Apply (ExchangeLines (AtPlace Bottom) (block_lines (codes "\tcc -s x\n \n\t  cc $$f; \\")))) ∷ [])) ∷  -- further-894
    (codes "all replace \"a.b\" -g b", Ok (on_line 1 (Apply (EachLine (ChangeEach (codes "a.b") (edits.ReplaceWord (codes "-g") (codes "b"))))) ∷ [])) ∷  -- further-895
    (codes "set-if X 1 ;", Ok (on_line 1 (Apply (ChangeValue (One None) (codes "X") (edits.SetIf (codes "1") (codes ";")))) ∷ [])) ∷  -- further-896
    (codes "replace \"F\" \"\\\\\\\\\" \";\"", Ok (on_line 1 (Apply (ChangeLine None (codes "F") (edits.ReplaceWord (codes "\\\\") (codes ";")))) ∷ [])) ∷  -- further-897
    (codes "all operator \"F\" \"=\"", Ok (on_line 1 (Apply (EachLine (ChangeEach (codes "F") (edits.SetOperator Recursive)))) ∷ [])) ∷  -- further-898
    (codes "insert \"before-line\" <<_ <<end\n#X = r\\\n s\n_\nendef\ndefine D\nend", Ok (on_line 1 (Apply (ExchangeLines (BeforeRun None (block_lines (codes "#X = r\\\n s"))) (block_lines (codes "endef\ndefine D")))) ∷ [])) ∷  -- further-899
    []

answers_22 : map (λ row. read_script row.0) rows_22 ≡ map (λ row. row.1) rows_22
unfolding line_len lines_from
answers_22 = refl
