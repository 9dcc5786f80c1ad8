-- Runs with their answers. Made by `tests/definitions/run_rows.py tests/cases/further-runs.tsv`.
use Rattle.std.proofs.Common.{◌≡◌, refl, ℕ, Bool, true, false, List, [], ◌∷◌, map, Option, Some, None}
use Rattle.std.specs.Prelude.{codes}
use Rattle.std.specs.Fmt.{digits}
use Rattle.mk_class.specs.declared.assignment.Flavor.TheVariants.{Recursive, Simple, PosixSimple, Immediate, Conditional, Append, Shell}
use Rattle.mk_edit_language.specs.declared.edit.RuleSeparator.TheVariants.{Single, Double}
use Rattle.mk_edit_language.specs.declared.edit.Side.TheVariants.{Before, After}
use Rattle.mk_edit_language.specs.Edits.{Top, Bottom, AfterLastVar, BeforeVar, AfterVar, BeforeRule, AfterRule, BeforeRun, AfterRun}
use Rattle.mk_edit_language.specs.Edits.{One, Every, NewAssign, NewRule, AddPrereq, RemovePrereq, ReplacePrereq, ByNumber, ByText, Last, At, OfAssign, OfRule, OfRecipe, CommentOut, Uncomment, AtPlace, OfRun, OfRuleRun, ChangeEach, SubstValues, SubstRecipe, SubstRecipes, ChangeValue, ChangeLine, ChangePrereqs, AddLine, AddRecipe, SetRecipe, RemoveLines, SwitchLine, RenameTarget, ExchangeLines, EachLine}
use Rattle.mk_edit_language.specs.Edits as edits
use Rattle.mk_edit_language.specs.LineRuns.{block_lines}
use Rattle.mk_history.specs.Machine.{Apply, Undo, Redo, Begin, End, Cancel}
use Rattle.mk_script.specs.Scripts.{Step, Chain}
use Rattle.mk_rows.proofs.scripts.ScriptReader.{on_line, edit_on, tried_on}
use Rattle.mk_history.specs.Shown.{shown_opened}
use Rattle.mk_run.specs.ExecutedSteps.{executed_steps}
use Rattle.mk_run.specs.Runs.{RunResult, result_after}
use Rattle.mk_run.specs.declared.outcome.Outcome.{Outcome}
use Rattle.mk_run.specs.declared.outcome.Outcome.TheVariants.{Done, Refused}

abbrev came_to : (keep_going : Bool) → (depth : ℕ) → (makefile : List ℕ) → List Step → RunResult
came_to k depth text steps = result_after k (executed_steps k steps (shown_opened depth text))

abbrev ends : Outcome → (report : List ℕ) → (output : Option (List ℕ)) → RunResult
ends outcome report output = record { outcome = outcome; report = report; output = output }

abbrev rows_1 : List (Bool × ℕ × List ℕ × List Step × RunResult)
rows_1 =
    (true, 100, codes "X = 1\n", on_line 1 (Apply (ExchangeLines (AtPlace Bottom) (block_lines (codes "Y = 2\nifdef A")))) ∷ on_line 5 Undo ∷ [], ends (Refused 2) (codes "1: refused 21 Misread\n5: refused 16 NothingToUndo\n") (Some (codes "X = 1\n"))) ∷  -- further-run-0
    (false, 100, codes "X = 1\n", on_line 1 (Apply (ExchangeLines (AtPlace Bottom) (block_lines (codes "Y = 2\n# n")))) ∷ on_line 5 (Apply (ChangeValue (One None) (codes "X") (edits.Set (codes "2")))) ∷ on_line 6 Undo ∷ on_line 7 Undo ∷ on_line 8 Redo ∷ [], ends Done [] (Some (codes "X = 1\nY = 2\n# n\n"))) ∷  -- further-run-1
    (true, 2, codes "X = 1\n", on_line 1 (Apply (ExchangeLines (AtPlace Top) (block_lines (codes "# 1")))) ∷ on_line 4 (Apply (ExchangeLines (AtPlace Top) (block_lines (codes "# 2")))) ∷ on_line 7 (Apply (ExchangeLines (AtPlace Top) (block_lines (codes "# 3")))) ∷ on_line 10 Undo ∷ on_line 11 Undo ∷ on_line 12 Undo ∷ [], ends (Refused 1) (codes "12: refused 16 NothingToUndo\n") (Some (codes "# 1\nX = 1\n"))) ∷  -- further-run-2
    (false, 100, codes "a:\n\tx\n\n# n\nb:\n\ty\n", on_line 1 Begin ∷ on_line 2 (Apply (ExchangeLines (OfRuleRun None (codes "a")) [])) ∷ on_line 3 (Apply (ExchangeLines (OfRuleRun None (codes "b")) (block_lines (codes "b: c\n\ttrue")))) ∷ on_line 7 End ∷ on_line 8 Undo ∷ on_line 9 Redo ∷ [], ends Done [] (Some (codes "\n# n\nb: c\n\ttrue\n"))) ∷  -- further-run-3
    (false, 100, codes "a:\n\tx\n\n# n\nb:\n\ty\n", on_line 1 Begin ∷ on_line 2 (Apply (ExchangeLines (OfRuleRun None (codes "a")) [])) ∷ on_line 3 (Apply (ExchangeLines (OfRuleRun None (codes "b")) (block_lines (codes "b: c\n\ttrue")))) ∷ on_line 7 Cancel ∷ [], ends Done [] (Some (codes "a:\n\tx\n\n# n\nb:\n\ty\n"))) ∷  -- further-run-4
    (true, 100, codes "a:\n\tx\n", on_line 1 Begin ∷ on_line 2 (Apply (ExchangeLines (OfRuleRun None (codes "a")) [])) ∷ on_line 3 Undo ∷ on_line 4 End ∷ on_line 5 Undo ∷ on_line 6 Redo ∷ [], ends (Refused 1) (codes "3: refused 18 GroupOpen\n") (Some [])) ∷  -- further-run-5
    (false, 100, codes "S = a.c\n", on_line 1 (Apply (ChangeLine None (codes "S") (edits.InsertWord After (codes "a.c") (codes "x.c")))) ∷ tried_on 2 (ChangeLine None (codes "S") (edits.InsertWord After (codes "a.c") (codes "x.c"))) ∷ on_line 3 (Apply (ChangeLine None (codes "S") (edits.InsertWord Before (codes "a.c") (codes "w.c")))) ∷ on_line 4 Undo ∷ [], ends Done [] (Some (codes "S = a.c x.c\n"))) ∷  -- further-run-6
    (false, 100, codes "S = a.c\n", Chain (edit_on 1 (ChangeLine None (codes "S") (edits.InsertWord After (codes "b.c") (codes "x.c")))) (edit_on 2 (ChangeLine None (codes "S") (edits.InsertWord After (codes "a.c") (codes "x.c")))) [] ∷ [], ends Done [] (Some (codes "S = a.c\n"))) ∷  -- further-run-7
    (false, 100, codes "S = a.c\n", Chain (edit_on 1 (ChangeLine None (codes "T") (edits.InsertWord After (codes "a.c") (codes "x.c")))) (edit_on 2 (ChangeLine None (codes "S") (edits.InsertWord After (codes "a.c") (codes "x.c")))) ((edit_on 3 (ChangeValue (One None) (codes "S") (edits.Set (codes "b")))) ∷ []) ∷ [], ends Done [] (Some (codes "S = a.c x.c\n"))) ∷  -- further-run-8
    (false, 100, codes "X = 1\n", Chain (edit_on 1 (ExchangeLines (OfRun None (block_lines (codes "Q"))) [])) (edit_on 2 (ExchangeLines (AtPlace Bottom) (block_lines (codes "or set X 2")))) ((edit_on 5 (ChangeValue (One None) (codes "X") (edits.Set (codes "3")))) ∷ []) ∷ [], ends Done [] (Some (codes "X = 1\nor set X 2\n"))) ∷  -- further-run-9
    (false, 100, codes "X = 1\n", Chain (edit_on 1 (ExchangeLines (OfRuleRun None (codes "c")) (block_lines (codes "c:\n\tx")))) (edit_on 5 (ExchangeLines (AtPlace Bottom) (block_lines (codes "c:\n\tx")))) [] ∷ [], ends Done [] (Some (codes "X = 1\nc:\n\tx\n"))) ∷  -- further-run-10
    (false, 100, codes "c: a\n\ty\n", Chain (edit_on 1 (ExchangeLines (OfRuleRun None (codes "c")) (block_lines (codes "c:\n\tx")))) (edit_on 5 (ExchangeLines (AtPlace Bottom) (block_lines (codes "c:\n\tx")))) [] ∷ [], ends Done [] (Some (codes "c:\n\tx\n"))) ∷  -- further-run-11
    (false, 100, codes "c: a\n\ty\n", tried_on 1 (ExchangeLines (OfRuleRun None (codes "c")) (block_lines (codes "c:\n\tx"))) ∷ tried_on 5 (ExchangeLines (OfRuleRun None (codes "c")) (block_lines (codes "c:\n\tx"))) ∷ [], ends Done [] (Some (codes "c:\n\tx\n"))) ∷  -- further-run-12
    (true, 100, codes "T = a\nT = b\n", tried_on 1 (ChangeValue (One None) (codes "T") (edits.SetIf (codes "c") (codes "d"))) ∷ on_line 2 (Apply (ChangeValue Every (codes "T") (edits.SetIf (codes "a") (codes "b")))) ∷ on_line 3 (Apply (ChangeValue (One None) (codes "T") (edits.SetIf (codes "b") (codes "c")))) ∷ [], ends (Refused 1) (codes "3: refused 5 Ambiguous 2\n") (Some (codes "T = b\nT = b\n"))) ∷  -- further-run-13
    (false, 100, codes "T = a\n", Chain (edit_on 1 (ChangeValue (One None) (codes "Q") (edits.SetIf (codes "a") (codes "b")))) (edit_on 2 (ChangeValue (One None) (codes "T") (edits.SetIf (codes "c") (codes "d")))) ((edit_on 3 (ChangeValue (One None) (codes "T") (edits.Set (codes "e")))) ∷ []) ∷ [], ends Done [] (Some (codes "T = a\n"))) ∷  -- further-run-14
    (false, 100, codes "#D = 1\n", Chain (edit_on 1 (SwitchLine Uncomment None (codes "D"))) (edit_on 2 (AddLine Bottom (NewAssign (codes "D") Recursive (codes "1")))) [] ∷ tried_on 3 (SwitchLine Uncomment None (codes "D")) ∷ [], ends Done [] (Some (codes "D = 1\n"))) ∷  -- further-run-15
    (true, 100, codes "D = 1\n", on_line 1 (Apply (SwitchLine CommentOut None (codes "D"))) ∷ on_line 2 (Apply (SwitchLine Uncomment None (codes "D"))) ∷ on_line 3 (Apply (SwitchLine CommentOut None (codes "D"))) ∷ on_line 4 Undo ∷ on_line 5 Undo ∷ on_line 6 Redo ∷ on_line 7 Redo ∷ on_line 8 Redo ∷ [], ends (Refused 1) (codes "8: refused 17 NothingToRedo\n") (Some (codes "#D = 1\n"))) ∷  -- further-run-16
    (false, 100, codes "t:\n\tcc -s\nt:\n\tcc -s\n", on_line 1 (Apply (EachLine (SubstRecipe None (codes "t") (codes "-s") (codes "-g")))) ∷ on_line 2 Undo ∷ on_line 3 (Apply (EachLine (SubstRecipe (Some 2) (codes "t") (codes "-s") (codes "-g")))) ∷ [], ends Done [] (Some (codes "t:\n\tcc -s\nt:\n\tcc -g\n"))) ∷  -- further-run-17
    (false, 100, codes "C = a\n", on_line 1 (Apply (AddLine (AfterLastVar (codes "C")) (NewAssign (codes "C") Append (codes "b")))) ∷ on_line 2 (Apply (AddLine (AfterLastVar (codes "C")) (NewAssign (codes "C") Append (codes "c")))) ∷ on_line 3 Undo ∷ on_line 4 Undo ∷ on_line 5 Redo ∷ [], ends Done [] (Some (codes "C = a\nC += b\n"))) ∷  -- further-run-18
    (false, 100, codes "X = 1\n", on_line 3 (Apply (ExchangeLines (AtPlace Top) (block_lines (codes "\n# not a comment\n  set X 2")))) ∷ on_line 8 (Apply (ChangeValue (One None) (codes "X") (edits.Set (codes "2")))) ∷ [], ends Done [] (Some (codes "\n# not a comment\n  set X 2\nX = 2\n"))) ∷  -- further-run-19
    (false, 100, codes "X = 1\r\n", on_line 1 (Apply (ExchangeLines (AtPlace Top) (block_lines (codes "# a\n# b")))) ∷ on_line 5 (Apply (ChangeValue (One None) (codes "X") (edits.Set (codes "2")))) ∷ [], ends Done [] (Some (codes "# a\r\n# b\r\nX = 2\r\n"))) ∷  -- further-run-20
    (true, 100, codes "a: b\n", on_line 1 (Apply (ChangePrereqs None (codes "a") (ReplacePrereq (codes "b") (codes "c")))) ∷ tried_on 2 (ChangePrereqs None (codes "a") (ReplacePrereq (codes "b") (codes "c"))) ∷ on_line 3 (Apply (ChangePrereqs None (codes "a") (ReplacePrereq (codes "c") (codes "d")))) ∷ on_line 4 Undo ∷ on_line 5 Undo ∷ on_line 6 Undo ∷ [], ends (Refused 1) (codes "6: refused 16 NothingToUndo\n") (Some (codes "a: b\n"))) ∷  -- further-run-23
    (false, 100, codes "X = ab\nY = ab\na:\n\tab\n", on_line 1 Begin ∷ on_line 2 (Apply (EachLine (SubstValues (codes "a") (codes "c")))) ∷ on_line 3 (Apply (EachLine (SubstRecipes (codes "b") (codes "d")))) ∷ on_line 4 End ∷ on_line 5 Undo ∷ on_line 6 Redo ∷ on_line 7 Undo ∷ [], ends Done [] (Some (codes "X = ab\nY = ab\na:\n\tab\n"))) ∷  -- further-run-24
    (false, 100, codes "X = 1\n", on_line 1 (Apply (ExchangeLines (AtPlace (AfterLastVar (codes "X"))) (block_lines (codes "X = 2\n# n")))) ∷ on_line 5 (Apply (ExchangeLines (AtPlace (AfterLastVar (codes "X"))) (block_lines (codes "X = 2\n# n")))) ∷ [], ends (Refused 1) (codes "5: refused 7 Already\n") None) ∷  -- further-run-25
    (false, 100, codes "c:\n", on_line 1 (Apply (ExchangeLines (AtPlace (AfterRule None (codes "c"))) (block_lines (codes "\tx\n\nd:")))) ∷ on_line 6 (Apply (ExchangeLines (AtPlace (AfterRule None (codes "c"))) (block_lines (codes "\tx\n\nd:")))) ∷ [], ends (Refused 1) (codes "6: refused 7 Already\n") None) ∷  -- further-run-26
    (false, 100, codes "c:\n", on_line 1 (Apply (ExchangeLines (AtPlace (AfterRule None (codes "c"))) (block_lines (codes "ifdef A\n\tx\nendif")))) ∷ on_line 6 (Apply (ExchangeLines (AtPlace (AfterRule None (codes "c"))) (block_lines (codes "ifdef A\n\tx\nendif")))) ∷ [], ends (Refused 1) (codes "6: refused 10 Straddles\n") None) ∷  -- further-run-27
    (false, 100, codes "X = 1\n", on_line 1 (Apply (ExchangeLines (AtPlace (BeforeVar None (codes "X"))) (block_lines (codes "X = 0")))) ∷ on_line 2 (Apply (ExchangeLines (AtPlace (BeforeVar None (codes "X"))) (block_lines (codes "X = 0")))) ∷ [], ends (Refused 1) (codes "2: refused 5 Ambiguous 2\n") None) ∷  -- further-run-28
    (false, 100, codes "X\n", on_line 1 (Apply (ExchangeLines (OfRun None (block_lines (codes "X"))) (block_lines (codes "X\nX")))) ∷ on_line 5 (Apply (ExchangeLines (OfRun None (block_lines (codes "X"))) (block_lines (codes "X\nX")))) ∷ [], ends (Refused 1) (codes "5: refused 7 Already\n") None) ∷  -- further-run-29
    (false, 100, codes "T = b\nT = b\n", on_line 1 (Apply (ChangeValue (One (Some 1)) (codes "T") (edits.SetIf (codes "b") (codes "c")))) ∷ on_line 2 (Apply (ChangeValue (One (Some 1)) (codes "T") (edits.SetIf (codes "b") (codes "c")))) ∷ [], ends Done [] (Some (codes "T = c\nT = c\n"))) ∷  -- further-run-30
    (false, 100, codes "F = a\n", on_line 1 (Apply (ChangeLine None (codes "F") (edits.ReplaceWord (codes "a") (codes "a x")))) ∷ on_line 2 (Apply (ChangeLine None (codes "F") (edits.ReplaceWord (codes "a") (codes "a x")))) ∷ [], ends Done [] (Some (codes "F = a x x\n"))) ∷  -- further-run-31
    (false, 100, codes "a:\n", on_line 1 (Apply (ExchangeLines (AtPlace (AfterRule None (codes "a"))) (block_lines (codes "\tx")))) ∷ on_line 2 (Apply (ExchangeLines (AtPlace (AfterRule None (codes "a"))) (block_lines (codes "\tx")))) ∷ [], ends (Refused 1) (codes "2: refused 7 Already\n") None) ∷  -- further-run-32
    (false, 100, codes "a:\n\tx\n", on_line 1 (Apply (ExchangeLines (OfRuleRun None (codes "a")) (block_lines (codes "# mine\na: b\n\ty")))) ∷ tried_on 6 (ExchangeLines (OfRuleRun None (codes "a")) (block_lines (codes "# mine\na: b\n\ty"))) ∷ [], ends Done [] (Some (codes "# mine\na: b\n\ty\n"))) ∷  -- further-run-33
    (false, 100, codes "export X = 1\n", on_line 1 (Apply (SwitchLine CommentOut None (codes "X"))) ∷ on_line 2 (Apply (SwitchLine Uncomment None (codes "X"))) ∷ [], ends Done [] (Some (codes "export X = 1\n"))) ∷  -- further-run-35
    (false, 100, codes "X \\\n = 1\n", on_line 1 (Apply (SwitchLine CommentOut None (codes "X"))) ∷ on_line 2 (Apply (SwitchLine Uncomment None (codes "X"))) ∷ [], ends (Refused 1) (codes "2: refused 4 NoSuch\n") None) ∷  -- further-run-36
    (false, 100, codes "X = 1\n", Chain (edit_on 1 (ExchangeLines (OfRun None (block_lines (codes "Q"))) [])) (edit_on 3 (ExchangeLines (AtPlace Bottom) (block_lines (codes "Y")))) ((edit_on 6 (ChangeValue (One None) (codes "X") (edits.Set (codes "2")))) ∷ []) ∷ [], ends Done [] (Some (codes "X = 1\nY\n"))) ∷  -- further-run-41
    (false, 100, codes "X = 1\n", on_line 1 (Apply (ExchangeLines (AtPlace (BeforeVar None (codes "X"))) (block_lines (codes "X = 0")))) ∷ on_line 2 (Apply (ExchangeLines (AtPlace (BeforeVar None (codes "X"))) (block_lines (codes "X = 0")))) ∷ [], ends (Refused 1) (codes "2: refused 5 Ambiguous 2\n") None) ∷  -- further-run-63
    (false, 100, codes "a: b\n", on_line 1 (Apply (ExchangeLines (AtPlace (AfterRule None (codes "a"))) (block_lines (codes "c: d")))) ∷ on_line 4 (Apply (ExchangeLines (AtPlace (AfterRule None (codes "a"))) (block_lines (codes "c: d")))) ∷ [], ends (Refused 1) (codes "4: refused 7 Already\n") None) ∷  -- further-run-64
    (false, 100, codes "X\n", on_line 1 (Apply (ExchangeLines (AtPlace Top) (block_lines (codes "A")))) ∷ on_line 2 (Apply (ExchangeLines (AtPlace Top) (block_lines (codes "B")))) ∷ on_line 3 (Apply (ExchangeLines (AtPlace Top) (block_lines (codes "A")))) ∷ on_line 4 (Apply (ExchangeLines (AtPlace Top) (block_lines (codes "B")))) ∷ [], ends Done [] (Some (codes "B\nA\nB\nA\nX\n"))) ∷  -- further-run-65
    (false, 100, codes "X\n", on_line 1 (Apply (ExchangeLines (AtPlace Top) (block_lines (codes "A\nB")))) ∷ on_line 5 (Apply (ExchangeLines (AtPlace Top) (block_lines (codes "A\nB")))) ∷ [], ends (Refused 1) (codes "5: refused 7 Already\n") None) ∷  -- further-run-66
    (false, 100, codes "S = a a\n", Chain (edit_on 1 (ChangeLine None (codes "S") (edits.InsertWord After (codes "a") (codes "b")))) (edit_on 2 (ChangeValue (One None) (codes "S") (edits.Set (codes "c")))) [] ∷ [], ends (Refused 1) (codes "1: refused 5 Ambiguous 2\n") None) ∷  -- further-run-67
    (false, 100, codes "S = a b a\n", tried_on 1 (ChangeLine None (codes "S") (edits.InsertWord After (codes "a") (codes "b"))) ∷ on_line 2 (Apply (ChangeValue (One None) (codes "S") (edits.Set (codes "c")))) ∷ [], ends Done [] (Some (codes "S = c\n"))) ∷  -- further-run-68
    (false, 100, codes "X = \\\nb", on_line 1 (Apply (ChangeValue (One None) (codes "X") (edits.SetIf (codes "b") []))) ∷ on_line 2 (Apply (ChangeValue (One None) (codes "X") (edits.SetIf (codes "\\") (codes "c")))) ∷ [], ends (Refused 1) (codes "2: refused 1 BadArgument old\n") None) ∷  -- further-run-69
    (false, 100, codes "  X = 1\n", on_line 1 (Apply (SwitchLine CommentOut None (codes "X"))) ∷ on_line 2 (Apply (SwitchLine Uncomment None (codes "X"))) ∷ [], ends Done [] (Some (codes "X = 1\n"))) ∷  -- further-run-70
    (false, 100, codes "X = 1\n", on_line 1 (Apply (ExchangeLines (AtPlace Top) (block_lines (codes "# ours")))) ∷ on_line 2 (Apply (ExchangeLines (AtPlace Top) (block_lines (codes "# ours")))) ∷ [], ends (Refused 1) (codes "2: refused 7 Already\n") None) ∷  -- further-run-74
    (false, 100, codes "X = 1\nY = 2\n", on_line 1 (Apply (ExchangeLines (OfRun None (block_lines (codes "X = 1"))) (block_lines (codes "ifdef A\nX = 1\nendif")))) ∷ on_line 6 (Apply (ExchangeLines (OfRun None (block_lines (codes "X = 1"))) (block_lines (codes "ifdef A\nX = 1\nendif")))) ∷ [], ends (Refused 1) (codes "6: refused 7 Already\n") None) ∷  -- further-run-75
    (true, 2, codes ".RECIPEPREFIX = X\nF = $(A -g)\\\n\t=\\\n -g\nF = a\nF = a\ndefine D \\\n e\nF = -g\ninclude a.mk\n# n\nendef\nifdef A\noverride :=$(A -g)\t=\\\n \\\\\\\\\nelse\nF::= -O2\nendif\n", tried_on 1 (ExchangeLines (OfRun (Some 4294967295) (block_lines (codes "F::= -O2"))) (block_lines (codes "ifneq (x,)\nF::= -O2\nendif"))) ∷ on_line 8 (Apply (ExchangeLines (OfRun (Some 1) (block_lines (codes "F = a"))) [])) ∷ on_line 9 (Apply (ExchangeLines (OfRun None (block_lines (codes "else"))) (block_lines (codes "else")))) ∷ tried_on 14 (SwitchLine CommentOut None (codes "F")) ∷ on_line 15 (Apply (ChangeValue (One (Some 4294967295)) (codes "F") (edits.SetIf (codes "-O2") (codes "= b")))) ∷ [], ends (Refused 3) (codes "9: refused 7 Already\n14: refused 5 Ambiguous 3\n15: refused 4 NoSuch\n") (Some (codes ".RECIPEPREFIX = X\nF = $(A -g)\\\n\t=\\\n -g\nF = a\ndefine D \\\n e\nF = -g\ninclude a.mk\n# n\nendef\nifdef A\noverride :=$(A -g)\t=\\\n \\\\\\\\\nelse\nF::= -O2\nendif\n"))) ∷  -- further-run-76
    (false, 100, codes "export F!= x=1\nF=  \ndefine D\nF = a \\\nendef\na: $(w a)\\\n x.o\n\ttrue\n\tcc -s y; cc -s z\n\tfor f in x; do \\\n\t  cc $$f; \\\n\tdone\ndefine D \\\n e\n\t  cc $$f; \\\nendef\n# t = 1\n", on_line 1 (Apply (ChangeValue (One (Some 1)) (codes "F") (edits.Set (codes "-O2 -g")))) ∷ on_line 2 (Apply (ExchangeLines (OfRun (Some 1) (block_lines (codes "define D\nF = a \\\nendef"))) (block_lines (codes "define W\ndefine D\nF = a \\\nendef\nendef")))) ∷ on_line 13 (Apply (ChangeValue Every (codes "F") (edits.Remove (codes "-O2")))) ∷ on_line 14 (Apply (ChangeValue Every (codes "F") (edits.SetIf (codes "-g") []))) ∷ on_line 15 Undo ∷ on_line 16 Undo ∷ on_line 17 (Apply (ExchangeLines (OfRun None (block_lines (codes "export F!= -O2 -g"))) [])) ∷ [], ends Done [] (Some (codes "F=  \ndefine W\ndefine D\nF = a \\\nendef\nendef\na: $(w a)\\\n x.o\n\ttrue\n\tcc -s y; cc -s z\n\tfor f in x; do \\\n\t  cc $$f; \\\n\tdone\ndefine D \\\n e\n\t  cc $$f; \\\nendef\n# t = 1\n"))) ∷  -- further-run-77
    (true, 100, codes "#F::=1\nexport F\\\n?=\\\n\\\n${v a a\\\nb# \\\n d\n", on_line 1 (Apply (ChangeLine (Some 2) (codes "F") (edits.InsertWord Before (codes "${v a a b# d") (codes "$(new a)")))) ∷ Chain (edit_on 2 (SetRecipe None (codes "c") (ByText (codes "a # b")) (codes "a"))) (edit_on 4 (ExchangeLines (OfRun None (block_lines (codes "export F\\\n?=\\\n\\\n${v a a\\\nb# \\\n d"))) (block_lines (codes "else")))) [] ∷ on_line 14 (Apply (ExchangeLines (AtPlace Top) (block_lines (codes "E \n\tE")))) ∷ [], ends (Refused 1) (codes "1: refused 1 BadArgument word\n") (Some (codes "E \n\tE\n#F::=1\nelse\n"))) ∷  -- further-run-78
    (false, 100, codes "a.b += a b\r\na.b += a:b  =\na.b=a b\nc&:\n>rm -rf x\n>>a\n>say \"q\"\n#override = 1\n#Y=\nX !=b \\\nb#\nc: $(w a)\n\tcc -s \\\n>y", on_line 1 Begin ∷ Chain (edit_on 2 (EachLine (SubstValues (codes "a") (codes "-O3")))) (edit_on 4 (RenameTarget (codes "$(w a)") (codes "%.o"))) ((edit_on 6 (ChangeValue (One None) (codes "a.b") (edits.SetIf (codes "a:b  =") (codes "b")))) ∷ []) ∷ on_line 7 (Apply (EachLine (SubstValues (codes "-O3") (codes "a b")))) ∷ Chain (edit_on 8 (ChangeLine (Some 1) (codes "a.b") (edits.InsertWord After (codes "a") (codes "a")))) (edit_on 9 (ExchangeLines (AtPlace (AfterLastVar (codes "X"))) (block_lines (codes "#Y=\nX !=b \\\nb#\nc: $(w a)")))) ((edit_on 15 (ChangeValue (One (Some 3)) (codes "a.b") (edits.Add (codes "a")))) ∷ (edit_on 16 (ExchangeLines (OfRuleRun (Some 1) (codes "c")) (block_lines (codes "define W\nc: $(w a)\n\tcc -s \\\n>y\nendef")))) ∷ []) ∷ [], ends Done [] (Some (codes "a.b += a b b\r\na.b += a b:b  =\na.b=a b b\nc&:\n>rm -rf x\n>>a\n>say \"q\"\n#override = 1\n#Y=\nX !=b \\\nb#\nc: $(w a)\n\tcc -s \\\n>y"))) ∷  -- further-run-79
    (true, 100, codes "F += $(a\tb)\\\n\tx=1 \\## a \\\\\n#override\texport X := b\noverride ::= ; \\\n    a\n", on_line 1 (Apply (ExchangeLines (OfRun None (block_lines (codes "zz"))) (block_lines (codes "define D")))) ∷ on_line 2 (Apply (ExchangeLines (AtPlace (AfterLastVar (codes "F"))) (block_lines (codes "a: b\n\ndefine D")))) ∷ on_line 7 (Apply (ChangeLine (Some 0) (codes "F") (edits.InsertWord Before (codes "$(a\tb)") (codes "-O3")))) ∷ on_line 8 (Apply (ExchangeLines (OfRun (Some 2) (block_lines (codes "F += $(a\tb)\\\n\tx=1 \\## a \\\\\n#override\texport X := b\noverride ::= ; \\\n    a"))) [])) ∷ on_line 15 (Apply (ChangeLine None (codes "F") (edits.Substitute (codes "\tb) x=1 \\") []))) ∷ on_line 16 End ∷ [], ends (Refused 6) (codes "1: refused 4 NoSuch\n2: refused 21 Misread\n7: refused 4 NoSuch\n8: refused 4 NoSuch\n15: refused 21 Misread\n16: refused 19 NoGroup\n") (Some (codes "F += $(a\tb)\\\n\tx=1 \\## a \\\\\n#override\texport X := b\noverride ::= ; \\\n    a\n"))) ∷  -- further-run-80
    []

answers_1 : map (λ row. came_to row.0 row.1 row.2 row.3) rows_1 ≡ map (λ row. row.4) rows_1
unfolding digits
answers_1 = refl

abbrev rows_2 : List (Bool × ℕ × List ℕ × List Step × RunResult)
rows_2 =
    (false, 2, codes "F\\\n=-O2\t=1 \\\n(t \\\n -g) -O2\n\\# F is on", on_line 1 (Apply (ExchangeLines (OfRun None (block_lines (codes "F\\\n=-O2\t=1 \\\n(t \\\n -g) -O2"))) [])) ∷ on_line 7 (Apply (ExchangeLines (OfRun (Some 2) (block_lines (codes "\\# F is on"))) (block_lines (codes "c: a\n")))) ∷ Chain (edit_on 11 (ExchangeLines (BeforeRun (Some 0) (block_lines (codes "\\# F is on"))) (block_lines (codes "x \\\n")))) (edit_on 15 (ExchangeLines (OfRuleRun None (codes "d")) [])) [] ∷ Chain (edit_on 16 (ExchangeLines (AtPlace (AfterLastVar (codes "F"))) (block_lines (codes "endif\nifdef B")))) (edit_on 21 (ExchangeLines (AtPlace (AfterVar (Some 2) (codes "F"))) (block_lines (codes "endef\ndefine D")))) ((edit_on 25 (AddLine Bottom (NewRule (codes "$(s\\)") Double (codes "foo ${g(}")))) ∷ []) ∷ [], ends (Refused 1) (codes "7: refused 4 NoSuch\n") None) ∷  -- further-run-81
    (true, 100, codes "a: $(w a)\nifdef A\nx.o: # c\n\t\n\tt\n\ttrue\n # n\ni: \n\\", on_line 1 (Apply (ExchangeLines (AtPlace (AfterLastVar (codes "F"))) (block_lines (codes "ifdef B\nifdef C\nendif\nendif")))) ∷ on_line 7 (Apply (ExchangeLines (AfterRun (Some 0) (block_lines (codes "\t\n\tt"))) (block_lines (codes "X = 1\n")))) ∷ on_line 14 (Apply (ChangeValue (One None) (codes "X") (edits.Append []))) ∷ on_line 15 (Apply (ExchangeLines (OfRuleRun None (codes "i")) [])) ∷ on_line 16 (Apply (RemoveLines (OfRecipe None (codes "a") (ByText (codes "rm -rf x"))))) ∷ on_line 17 (Apply (EachLine (SubstRecipes (codes "\\") (codes "x=1")))) ∷ on_line 18 Redo ∷ on_line 19 (Apply (ChangeValue (One None) (codes "F") (edits.Append (codes "a")))) ∷ on_line 20 (Apply (RemoveLines (OfRecipe (Some 1) (codes "a") (ByText (codes "a # b"))))) ∷ on_line 21 (Apply (ExchangeLines (OfRun (Some 1) (block_lines (codes "x.o: # c\n\t"))) (block_lines (codes "ifneq (x,)\nx.o: # c\n\t\nendif")))) ∷ [], ends (Refused 8) (codes "1: refused 4 NoSuch\n7: refused 4 NoSuch\n14: refused 1 BadArgument value\n16: refused 6 Absent\n17: refused 6 Absent\n18: refused 17 NothingToRedo\n19: refused 4 NoSuch\n20: refused 6 Absent\n") (Some (codes "a: $(w a)\nifdef A\nifneq (x,)\nx.o: # c\n\t\nendif\n\tt\n\ttrue\n # n\n\\"))) ∷  -- further-run-82
    (false, 100, codes "c c: ; true\n\ta\\\\\n\trm -f x\nF::= $(a b) -g $(a\tb)\\\nb# a \\\\\n\tfoo &: t1?=1 \noverride define X =\n\tfor f in x; do \\\n\na\\b: c\nendef\n# export F = a\n", on_line 1 (Apply (SwitchLine Uncomment None (codes "F"))) ∷ Chain (edit_on 2 (ChangeLine None (codes "F") (edits.Prepend (codes "\t")))) (edit_on 3 (ExchangeLines (AtPlace Top) (block_lines (codes "ifdef B\nifdef C\nendif\nendif")))) ((edit_on 10 (ChangeLine (Some 1) (codes "F") (edits.InsertWord Before (codes "-g") (codes "-lz")))) ∷ []) ∷ [], ends (Refused 1) (codes "2: refused 1 BadArgument value\n") None) ∷  -- further-run-83
    (true, 100, codes "override = $x -O2 \\\n-g  |  -O2 # a \\\\\nvpath %.c a\n", tried_on 1 (EachLine (SubstValues (codes "a") (codes "$\\"))) ∷ Chain (edit_on 2 (ChangeLine (Some 4294967295) (codes "override") (edits.InsertWord Before (codes "$x") (codes "$(new a)")))) (edit_on 3 (AddLine (AfterLastVar (codes "override")) (NewAssign (codes "t") Recursive []))) ((edit_on 4 (ChangeLine None (codes "override") (edits.ReplaceWord (codes "-O2") (codes "a:b")))) ∷ []) ∷ on_line 5 (Apply (ChangeValue (One None) (codes "t") (edits.Add (codes "a")))) ∷ on_line 6 (Apply (ChangeLine None (codes "override") (edits.Substitute (codes "-O2") (codes "a b")))) ∷ tried_on 7 (ExchangeLines (AtPlace (AfterLastVar (codes "override"))) (block_lines (codes "# a \\\n b"))) ∷ on_line 11 (Apply (ChangeLine None (codes "override") (edits.InsertWord Before (codes "$x") (codes "$(s (b) a)")))) ∷ [], ends Done [] (Some (codes "override = $(s (b) a) $x a b \\\n-g  |  a b # a \\\\\n# a \\\n b\nt =a\nvpath %.c a\n"))) ∷  -- further-run-84
    (false, 100, codes "c c:: ; true\n\t# n\n\ttrue\nendif\n", Chain (edit_on 1 (ExchangeLines (OfRun (Some 2) (block_lines (codes "c c:: ; true"))) [])) (edit_on 2 (ExchangeLines (OfRuleRun None (codes "c")) [])) [] ∷ Chain (edit_on 3 (ExchangeLines (AtPlace (AfterLastVar (codes "X"))) (block_lines []))) (edit_on 5 (SetRecipe None (codes "c") (ByText (codes "# n")) (codes "true"))) [] ∷ tried_on 6 (RemoveLines (OfRecipe (Some 4294967295) (codes "c") (ByText (codes "b")))) ∷ tried_on 7 (RemoveLines (OfAssign None (codes "X"))) ∷ Chain (edit_on 8 (ExchangeLines (AtPlace (BeforeVar None (codes "F"))) (block_lines (codes "ifdef A\nX = 1\nendif")))) (edit_on 14 (ExchangeLines (BeforeRun (Some 1) (block_lines (codes "\ttrue"))) (block_lines (codes "F = a \\\n  b")))) ((edit_on 18 (ChangePrereqs None (codes "c") (RemovePrereq (codes "$(a b)")))) ∷ (edit_on 19 (RemoveLines (OfRecipe (Some 0) (codes "c") (ByText (codes "t"))))) ∷ []) ∷ tried_on 20 (EachLine (SubstRecipes (codes "true") [])) ∷ on_line 21 (Apply (ExchangeLines (AtPlace Bottom) (block_lines (codes "x \\\n")))) ∷ Chain (edit_on 25 (ExchangeLines (OfRuleRun (Some 0) (codes "c")) [])) (edit_on 27 (ExchangeLines (OfRun None (block_lines (codes "c c:: ; true"))) [])) [] ∷ [], ends (Refused 1) (codes "2: refused 9 SharedRule 2\n") None) ∷  -- further-run-85
    (true, 2, codes "F = a \\\r\n# F is on\r\nX\\\r\n:= -g = ;\r\n", tried_on 1 (ExchangeLines (OfRun (Some 0) (block_lines (codes "X\\\n:= -g = ;"))) (block_lines (codes "F = aaa aaaa # aa"))) ∷ on_line 5 (Apply (ExchangeLines (AtPlace Bottom) (block_lines (codes "include a.mk\n\tfor f in x; do \\\ndefine D")))) ∷ tried_on 10 (SwitchLine Uncomment None (codes "F")) ∷ on_line 11 (Apply (SwitchLine CommentOut None (codes "F"))) ∷ on_line 12 Begin ∷ [], ends Done [] (Some (codes "#F = a \\\r\n# F is on\r\nX\\\r\n:= -g = ;\r\ninclude a.mk\r\n\tfor f in x; do \\\r\ndefine D\r\n"))) ∷  -- further-run-86
    (false, 100, codes "define D\na\\b: c\nF += a\nF = a \\\ndefine E\nX\nendef\nendef\n#include = x\n#X = r\\\r\n s\nc d: b\n\n\tcc -s x\nF != ${c}\\\n\\\nb \\\na \\\r\n b\n", on_line 1 (Apply (ExchangeLines (OfRun None (block_lines (codes "#X = r\\\n s"))) [])) ∷ on_line 5 (Apply (ChangeValue Every (codes "F") (edits.SetIf (codes "${c} b a b") (codes "$(s (b) a) =")))) ∷ on_line 6 Undo ∷ on_line 7 (Apply (ExchangeLines (OfRun None (block_lines (codes "c d: b"))) [])) ∷ [], ends (Refused 1) (codes "7: refused 14 Leans\n") None) ∷  -- further-run-87
    (true, 100, codes "override:= \\\n-g a:b\\\n -O2 ; \nifdef A\nF := # \\\n d\nendif\nF =  \\\\\n -g\tb\nF = b \\\n\\ b \\\n-g  a\nF += a b\n", tried_on 1 (ChangeValue Every (codes "F") (edits.SetIf (codes "b \\ b -g  a") (codes "-g x$(a  b)"))) ∷ on_line 2 (Apply (SwitchLine CommentOut None (codes "override"))) ∷ on_line 3 (Apply (AddLine (AfterLastVar (codes "F")) (NewAssign (codes "F") Simple (codes "; $(s (b) a)")))) ∷ tried_on 4 (ChangeLine (Some 5) (codes "F") (edits.InsertWord Before (codes ";") (codes "a\\ b"))) ∷ [], ends Done [] (Some (codes "#override:= \\\n-g a:b\\\n -O2 ; \nifdef A\nF := # \\\n d\nendif\nF =  \\\\\n -g\tb\nF = -g x$(a  b)\nF += a b\nF := a\\ b ; $(s (b) a)\n"))) ∷  -- further-run-88
    (false, 100, codes "\na$\\", on_line 1 (Apply (ExchangeLines (BeforeRun None (block_lines [])) (block_lines (codes "X = 1\n$(call t,x)\nF = -g")))) ∷ tried_on 6 (ExchangeLines (OfRun (Some 0) (block_lines (codes "X = 1"))) (block_lines (codes "tX = 1\n\tababa aaa"))) ∷ on_line 10 (Apply (ExchangeLines (AtPlace (AfterLastVar (codes "F"))) (block_lines (codes "endef\ndefine D")))) ∷ on_line 14 (Apply (ExchangeLines (OfRun None (block_lines (codes "F = -g"))) (block_lines (codes "define W\nF = -g\nendef")))) ∷ Chain (edit_on 19 (RemoveLines (OfAssign None (codes "F")))) (edit_on 20 (ExchangeLines (AtPlace (AfterVar (Some 1) (codes "X"))) (block_lines (codes "X = 1\n$(call t,x)")))) ((edit_on 24 (ExchangeLines (OfRuleRun None (codes "include")) (block_lines (codes "include:\n\ttrue")))) ∷ (edit_on 28 (ChangeLine None (codes "X") (edits.Prepend (codes "$")))) ∷ []) ∷ on_line 29 Redo ∷ on_line 30 End ∷ on_line 31 (Apply (ExchangeLines (AtPlace (AfterVar (Some 2) (codes "X"))) (block_lines (codes "ifdef A\n\tx\nelse\n\ty\nendif")))) ∷ on_line 38 (Apply (EachLine (SubstValues (codes "1") (codes "$\\")))) ∷ [], ends (Refused 1) (codes "10: refused 21 Misread\n") None) ∷  -- further-run-89
    (true, 100, codes "override = b\noverride += b\noverride=a b\n", on_line 1 End ∷ on_line 2 (Apply (AddLine Bottom (NewAssign (codes "X") Recursive (codes "-O2")))) ∷ tried_on 3 (ExchangeLines (OfRun None (block_lines (codes "override += b"))) (block_lines (codes "override += b"))) ∷ on_line 6 Begin ∷ on_line 7 (Apply (ChangeValue (One None) (codes "F") (edits.Set (codes "$\\x x$(a  b)")))) ∷ on_line 8 Undo ∷ [], ends (Refused 3) (codes "1: refused 19 NoGroup\n7: refused 4 NoSuch\n8: refused 18 GroupOpen\n") (Some (codes "override = b\noverride += b\noverride=a b\nX = -O2\n"))) ∷  -- further-run-90
    (true, 100, codes "c: $(w a) b& x.o\r\n\ttrue\r\nexport a.b= a:b\r\n", on_line 1 (Apply (AddLine (AfterLastVar (codes "a.b")) (NewAssign (codes "X") Shell []))) ∷ on_line 2 (Apply (ChangeValue (One None) (codes "a.b") (edits.Set (codes "\\#")))) ∷ [], ends Done [] (Some (codes "c: $(w a) b& x.o\r\n\ttrue\r\nexport a.b= \\#\r\nX !=\r\n"))) ∷  -- further-run-92
    (false, 100, codes "export F != a\\\\ x=1 |\tx=1 | # a \\\\\nX\\\n=; a\\\\ \na.b =-g\\\nx=1 -O2 b a #\nvpath %.c a", on_line 1 Undo ∷ on_line 2 Redo ∷ Chain (edit_on 3 (ChangeValue Every (codes "a.b") (edits.SetIf (codes "$(t -g)") (codes "-g")))) (edit_on 5 (ExchangeLines (AfterRun (Some 1) (block_lines (codes "export F != a\\\\ x=1 |\tx=1 | # a \\\\"))) (block_lines (codes "c: a")))) [] ∷ on_line 6 (Apply (ExchangeLines (BeforeRun None (block_lines (codes "vpath %.c a"))) (block_lines (codes "ifdef A\nX = 1\nendif")))) ∷ Chain (edit_on 11 (ChangeValue (One None) (codes "a.b") (edits.Append (codes "-g")))) (edit_on 12 (ChangeLine None (codes "a.b") (edits.ReplaceWord (codes "a") (codes "-g")))) [] ∷ on_line 13 (Apply (ExchangeLines (OfRun None (block_lines (codes "X\\\n=; a\\\\ "))) (block_lines (codes "#X = 1\n#X = 1\nelse")))) ∷ tried_on 21 (ChangeValue (One None) (codes "X") (edits.Append (codes "a"))) ∷ on_line 22 (Apply (ExchangeLines (AtPlace (AfterLastVar (codes "F"))) (block_lines (codes "\n")))) ∷ Chain (edit_on 26 (ChangeValue (One None) (codes "a.b") (edits.Remove (codes "a")))) (edit_on 28 (AddRecipe None (codes "c") (At 1) (codes "true"))) [] ∷ [], ends (Refused 1) (codes "1: refused 16 NothingToUndo\n") None) ∷  -- further-run-93
    (true, 100, codes "X = 1\r\noverride define X =\r\nendef\r\na: \\\r\n x.o\r\n", on_line 1 Undo ∷ Chain (edit_on 2 (ExchangeLines (OfRun (Some 4294967295) (block_lines (codes "X = 1"))) [])) (edit_on 4 (RemoveLines (OfAssign None (codes "F")))) ((edit_on 6 (ChangeLine None (codes "X") (edits.Substitute (codes "1") (codes "yy")))) ∷ []) ∷ tried_on 7 (ExchangeLines (AfterRun None (block_lines (codes "endef"))) (block_lines (codes "endef"))) ∷ on_line 10 (Apply (ExchangeLines (AtPlace (AfterLastVar (codes "X"))) (block_lines (codes "# a \\\n b")))) ∷ on_line 14 Redo ∷ on_line 15 Undo ∷ [], ends (Refused 2) (codes "1: refused 16 NothingToUndo\n14: refused 17 NothingToRedo\n") (Some (codes "X = yy\r\noverride define X =\r\nendef\r\na: \\\r\n x.o\r\n"))) ∷  -- further-run-94
    (false, 100, codes "#F::=1\noverride = -g\noverride=b \\\na |\n%.o: a\n\t\ttrue\n\t", tried_on 1 (RemoveLines (OfRecipe (Some 4294967295) (codes "%.o") (ByText (codes "a")))) ∷ Chain (edit_on 2 (AddLine (AfterRule None (codes "%.o")) (NewAssign (codes "F") PosixSimple []))) (edit_on 4 (EachLine (ChangeEach (codes "override") (edits.Prepend (codes "x=1"))))) [] ∷ on_line 5 (Apply (ExchangeLines (OfRun None (block_lines (codes "override=b \\\na |"))) [])) ∷ on_line 9 (Apply (ExchangeLines (OfRuleRun None (codes "%.o")) [])) ∷ [], ends Done [] (Some (codes "#F::=1\noverride = -g\nF ::=\n"))) ∷  -- further-run-95
    (true, 2, codes "\\\n\t\n# override \\\n X = 1\na: a $(w a)\n\n# n\n\nX ==\\\n\t-g b \nc: a\n\tx \\ y\n\t>a", on_line 1 (Apply (ExchangeLines (OfRun None (block_lines (codes "\n# n"))) [])) ∷ on_line 5 (Apply (ChangeLine None (codes "X") (edits.Prepend (codes "a$ b")))) ∷ on_line 6 Undo ∷ on_line 7 (Apply (ChangeValue (One None) (codes "X") (edits.Append (codes ":")))) ∷ on_line 8 (Apply (ExchangeLines (OfRun None (block_lines (codes "\\\n\t"))) (block_lines (codes "ifdef A\n\\\n\t\nendif")))) ∷ [], ends Done [] (Some (codes "ifdef A\n\\\n\t\nendif\n# override \\\n X = 1\na: a $(w a)\n\nX ==\\\n\t-g b : \nc: a\n\tx \\ y\n\t>a"))) ∷  -- further-run-96
    (false, 100, codes "c d: $(w a) x.o a\n\tcc -s \\\n>y\nifdef A\nexport a.b?= -O2 b $\\\n\n", on_line 1 (Apply (ChangeLine (Some 4294967295) (codes "a.b") (edits.InsertWord Before (codes "b") (codes "-lz")))) ∷ on_line 2 (Apply (ExchangeLines (AtPlace Top) (block_lines (codes "E \n\tE")))) ∷ Chain (edit_on 6 (ChangeValue Every (codes "a.b") (edits.Remove (codes "b")))) (edit_on 7 (ChangeLine None (codes "a.b") (edits.ReplaceWord (codes "$ ") (codes "b")))) [] ∷ on_line 8 Redo ∷ on_line 9 (Apply (ExchangeLines (OfRuleRun None (codes "c")) [])) ∷ on_line 10 (Apply (ChangeValue Every (codes "a.b") (edits.Remove (codes "$ ")))) ∷ [], ends (Refused 1) (codes "1: refused 4 NoSuch\n") None) ∷  -- further-run-97
    (true, 100, codes "X\\\n= -g  x=1 \\\n \\\n |\n", on_line 1 (Apply (ChangeValue (One None) (codes "X") (edits.Add (codes "-O2")))) ∷ on_line 2 (Apply (ExchangeLines (BeforeRun None (block_lines (codes "X = 1"))) (block_lines (codes "# x")))) ∷ Chain (edit_on 7 (ExchangeLines (AtPlace (AfterLastVar (codes "X"))) (block_lines (codes "c: d\n\tcp $< $@")))) (edit_on 11 (AddLine (AfterLastVar (codes "F")) (NewAssign (codes "t") PosixSimple (codes "-g a$ b")))) ((edit_on 12 (ChangeLine None (codes "X") (edits.InsertWord After (codes "-O2") (codes "-lz")))) ∷ []) ∷ on_line 13 (Apply (AddRecipe None (codes "c") Last (codes ">"))) ∷ Chain (edit_on 14 (ExchangeLines (OfRuleRun (Some 2) (codes "c")) (block_lines (codes "c:\n\tcc -o $@ $<\n\ttrue")))) (edit_on 20 (ChangeLine None (codes "X") (edits.InsertWord After (codes "|") (codes "x=1")))) ((edit_on 22 (ChangeValue (One None) (codes "X") (edits.Add (codes "\\#")))) ∷ []) ∷ tried_on 23 (EachLine (SubstValues (codes "1") (codes "x"))) ∷ on_line 24 Undo ∷ [], ends (Refused 1) (codes "2: refused 4 NoSuch\n") (Some (codes "X\\\n= -g  x=1 \\\n \\\n | -O2\nc: d\n\tcp $< $@\n\t>\n"))) ∷  -- further-run-98
    (false, 100, codes ".RECIPEPREFIX = X\na: b\nF= \\ b# c\n\t  cc $$f; \\\nF = $(A -g)\nF += a\nd d: a | b\n\t>a\n# \\\n n\n\ttrue\n", Chain (edit_on 1 (ChangeLine None (codes "F") (edits.InsertWord Before (codes "\\ b") (codes "$(new a)")))) (edit_on 3 (ChangePrereqs None (codes "a") (ReplacePrereq (codes "b") (codes "c")))) ((edit_on 4 (ChangeLine (Some 2) (codes "F") (edits.InsertWord Before (codes "a") (codes "a$ ")))) ∷ []) ∷ on_line 5 Redo ∷ on_line 6 (Apply (ChangeLine (Some 1) (codes "F") (edits.InsertWord Before (codes "\\ b") (codes "$(A -g)")))) ∷ on_line 7 (Apply (ChangeLine (Some 1) (codes "F") (edits.Substitute (codes "\\ b") (codes "$$")))) ∷ on_line 8 (Apply (ExchangeLines (OfRuleRun None (codes "a")) [])) ∷ on_line 9 (Apply (ChangeLine None (codes "F") (edits.InsertWord After (codes "<<E") (codes "a")))) ∷ on_line 10 (Apply (AddLine Top (NewAssign (codes "X") Recursive (codes "1")))) ∷ [], ends (Refused 1) (codes "1: refused 5 Ambiguous 2\n") None) ∷  -- further-run-99
    (true, 100, codes " \nF= $(a\tb)#-g\n", Chain (edit_on 1 (ChangeLine None (codes "a.b") (edits.SetOperator Shell))) (edit_on 2 (AddLine (AfterVar None (codes "F")) (NewAssign (codes "F") PosixSimple []))) [] ∷ on_line 3 (Apply (ExchangeLines (AtPlace (AfterRule (Some 0) (codes "c"))) (block_lines (codes "endef")))) ∷ on_line 4 Undo ∷ Chain (edit_on 5 (ExchangeLines (OfRun None (block_lines [])) [])) (edit_on 6 (AddRecipe None (codes "c") (At 1) (codes "b"))) ((edit_on 8 (ChangeValue (One None) (codes "F") (edits.SetIf (codes "$(a\tb)") (codes "-g")))) ∷ []) ∷ on_line 9 (Apply (ChangeValue (One None) (codes "F") (edits.Set (codes "<<E")))) ∷ on_line 10 (Apply (ChangeValue (One None) (codes "F") (edits.Set []))) ∷ on_line 11 (Apply (ChangeValue (One None) (codes "F") (edits.SetIf [] []))) ∷ on_line 12 Undo ∷ on_line 13 (Apply (EachLine (ChangeEach (codes "F") (edits.ReplaceWord (codes "$(w a)") (codes "|"))))) ∷ on_line 14 (Apply (ChangeValue Every (codes "F") (edits.Set (codes "$(s (b) a)")))) ∷ [], ends (Refused 2) (codes "3: refused 4 NoSuch\n13: refused 6 Absent\n") (Some (codes " \nF= $(s (b) a)#-g\n"))) ∷  -- further-run-100
    (false, 2, codes "#export = 1\na: a\\\n x.o\n\tcc -s y; cc -s z\nF ::= a:b# c\nd: ; true\n", on_line 1 (Apply (EachLine (ChangeEach (codes "F") (edits.ReplaceWord (codes "a:b") (codes "b"))))) ∷ on_line 2 Undo ∷ on_line 3 (Apply (ChangeValue Every (codes "F") (edits.SetIf (codes "a:b") (codes "$ b ;")))) ∷ on_line 4 (Apply (ExchangeLines (OfRuleRun None (codes "a")) [])) ∷ [], ends Done [] (Some (codes "#export = 1\nF ::= $ b ;# c\nd: ; true\n"))) ∷  -- further-run-101
    (true, 100, codes "  b\n-include b.mk\nF += -O2 b $(t \\\n -g)\nd: a | b\n>\n>ifdef Q\nifdef A\nF\\\n= a:b\nelse\nF ::= ; \\\n \\\n b \nendif\n#F = a\n\n", on_line 1 Redo ∷ Chain (edit_on 2 (ChangeValue (One None) (codes "a.b") (edits.Set (codes "a a:b")))) (edit_on 4 (SwitchLine Uncomment None (codes "F"))) [] ∷ on_line 5 (Apply (EachLine (ChangeEach (codes "F") (edits.Prepend (codes "$"))))) ∷ on_line 6 (Apply (ExchangeLines (AtPlace (AfterLastVar (codes "F"))) (block_lines (codes "\ttrue")))) ∷ on_line 9 Undo ∷ on_line 10 (Apply (AddLine (AfterLastVar (codes "F")) (NewRule (codes "c") Single (codes "a b")))) ∷ [], ends (Refused 2) (codes "1: refused 17 NothingToRedo\n5: refused 1 BadArgument value\n") (Some (codes "  b\n-include b.mk\nF += -O2 b $(t \\\n -g)\nd: a | b\n>\n>ifdef Q\nifdef A\nF\\\n= a:b\nelse\nF ::= ; \\\n \\\n b \nendif\nF = a\nc: a b\n\n"))) ∷  -- further-run-102
    (false, 100, codes "i: \r\n\ttrue\r\n\r\n\tcc -s \\\r\n>y\r\nF=a\r\nF += b\r\nF += b\r\n#X ?= $(x) # n\r\nF ::= \\ \r\nF = -g \\\r\n-O2 =\r\nF=-g\r\nF=-g\r\n", tried_on 1 (ExchangeLines (OfRuleRun None (codes "i")) []) ∷ on_line 2 (Apply (ChangeLine (Some 7) (codes "F") (edits.InsertWord Before (codes "-g") (codes ";")))) ∷ on_line 3 (Apply (ChangeValue Every (codes "F") (edits.Set (codes "a\\ b a$ b")))) ∷ Chain (edit_on 4 (ChangeLine (Some 1) (codes "F") (edits.InsertWord Before (codes "a$ b") (codes "|")))) (edit_on 6 (ChangeLine (Some 1) (codes "F") (edits.InsertWord Before (codes "a$ b") (codes "x.c")))) [] ∷ on_line 7 (Apply (EachLine (SubstValues (codes "\\") []))) ∷ on_line 8 (Apply (AddLine Top (NewAssign (codes "X") Recursive (codes "1")))) ∷ tried_on 9 (ChangeValue Every (codes "F") (edits.Remove (codes "$(t -g)"))) ∷ on_line 10 Begin ∷ [], ends Done [] (Some (codes "X = 1\r\nF=a b | a$ b\r\nF += a b a$ b\r\nF += a b a$ b\r\n#X ?= $(x) # n\r\nF ::= a b a$ b\r\nF = a b a$ b\r\nF=a b a$ b\r\nF=a b a$ b\r\n"))) ∷  -- further-run-103
    (true, 100, codes ".RECIPEPREFIX = F\nc: ;\nelse\n# export F = a\nF:=-O2 b -g\ta\nX = \n", on_line 1 (Apply (ExchangeLines (OfRun None (block_lines (codes "else\n# export F = a"))) [])) ∷ tried_on 5 (RemoveLines (OfRecipe None (codes "c") (ByText (codes "rm -f x")))) ∷ [], ends (Refused 1) (codes "1: refused 14 Leans\n") (Some (codes ".RECIPEPREFIX = F\nc: ;\nelse\n# export F = a\nF:=-O2 b -g\ta\nX = \n"))) ∷  -- further-run-104
    (false, 100, codes "F = \\\\\\\\#-g\r\nF\\\r\n= \\# \\\r\n \\\r\n b\\\r\nb\r\ni: a a x.o | a d\r\n\tfor f in x; do \\\r\n\t  cc $$f; \\\r\n\tdone\r\n\tababa aaa", on_line 1 (Apply (AddLine Top (NewAssign (codes "X") Recursive (codes "1")))) ∷ on_line 2 (Apply (AddLine Bottom (NewAssign (codes "endef") Immediate (codes "2 3 2 3")))) ∷ tried_on 3 (ExchangeLines (OfRuleRun (Some 1) (codes "c")) []) ∷ on_line 4 (Apply (EachLine (ChangeEach (codes "F") (edits.Prepend (codes "b"))))) ∷ Chain (edit_on 5 (ChangeValue (One (Some 2)) (codes "X") (edits.Remove (codes "$(A -g)")))) (edit_on 6 (ChangePrereqs None (codes "i") (ReplacePrereq (codes "x.o") (codes "$x")))) ((edit_on 8 (AddLine Top (NewRule (codes "d") Double []))) ∷ (edit_on 10 (AddLine (AfterRule None (codes "i")) (NewAssign (codes "F") Conditional (codes "\\# $\\x")))) ∷ []) ∷ on_line 11 (Apply (ChangePrereqs (Some 1) (codes "i") (ReplacePrereq (codes "a") (codes "${c}")))) ∷ Chain (edit_on 12 (ExchangeLines (OfRun None (block_lines (codes "\tfor f in x; do \\\n\t  cc $$f; \\\n\tdone\n\tababa aaa\nendef :::= 2 3 2 3"))) (block_lines []))) (edit_on 19 (ChangeLine (Some 2) (codes "endef") (edits.InsertWord Before (codes "2") (codes "x.c")))) ((edit_on 20 (SwitchLine CommentOut None (codes "endef"))) ∷ []) ∷ tried_on 21 (ExchangeLines (OfRun None (block_lines (codes "a\r"))) []) ∷ [], ends (Refused 1) (codes "21: refused 1 BadArgument old\n") None) ∷  -- further-run-105
    (true, 2, codes "F =\\\r\n\t-O2 \\\r\n $(w \\\n a)\\\n\\\n${c} \nF != -O2 = # \\\n d\nF ?=-g x=1#-g\nc: b& $(w a) ; true\n# n\n# private Y=c\n", on_line 1 (Apply (ExchangeLines (OfRuleRun (Some 4294967295) (codes "c")) [])) ∷ on_line 2 Begin ∷ on_line 3 End ∷ tried_on 4 (EachLine (SubstValues (codes "zz") (codes "x"))) ∷ tried_on 5 (ExchangeLines (OfRun None (block_lines (codes "# private Y=c"))) (block_lines (codes "# private Y=c"))) ∷ tried_on 8 (SwitchLine Uncomment None (codes "F")) ∷ on_line 9 (Apply (RemoveLines (OfRecipe None (codes "c") (ByText (codes "a # b"))))) ∷ on_line 10 (Apply (ChangePrereqs None (codes "c") (ReplacePrereq (codes "b&") (codes "foo")))) ∷ on_line 11 (Apply (ExchangeLines (OfRuleRun None (codes "c")) (block_lines (codes "c:\nifdef A\n\tx\nendif")))) ∷ on_line 17 (Apply (AddRecipe None (codes "c") (At 4294967295) (codes "say \"q\""))) ∷ [], ends (Refused 3) (codes "1: refused 4 NoSuch\n9: refused 6 Absent\n17: refused 6 Absent\n") (Some (codes "F =\\\r\n\t-O2 \\\r\n $(w \\\n a)\\\n\\\n${c} \nF != -O2 = # \\\n d\nF ?=-g x=1#-g\nc:\nifdef A\n\tx\nendif\n# n\n# private Y=c\n"))) ∷  -- further-run-106
    (false, 100, codes "c x.o: ;\n\t# n\n# \\\n n\n\ta # b\nc d: \\\n x.o\nc: $(w a) b | b\nifdef A", on_line 1 (Apply (AddLine Bottom (NewAssign (codes "a.b") PosixSimple (codes "$(t -g) b")))) ∷ Chain (edit_on 2 (RemoveLines (OfRecipe (Some 0) (codes "c") (ByText [])))) (edit_on 3 (ExchangeLines (OfRun None (block_lines (codes "a.b ::= $(t -g) b"))) (block_lines (codes "a: b")))) [] ∷ on_line 6 (Apply (ExchangeLines (AfterRun None (block_lines (codes "c d: \\\n x.o"))) (block_lines (codes "X = 1\n")))) ∷ on_line 13 (Apply (ExchangeLines (OfRuleRun None (codes "a")) [])) ∷ on_line 14 (Apply (ChangeLine (Some 1) (codes "X") (edits.Substitute (codes "1") (codes "a b")))) ∷ on_line 15 (Apply (ExchangeLines (AtPlace Top) (block_lines (codes "<<-")))) ∷ [], ends Done [] (Some (codes "<<-\nc x.o: ;\n\t# n\n# \\\n n\n\ta # b\nc d: \\\n x.o\nX = a b\n\nc: $(w a) b | b\nifdef A\n"))) ∷  -- further-run-107
    (true, 100, codes "ifdef A\r\nF +=  #\nelse\nF += b \nendif\n", on_line 1 (Apply (AddLine Top (NewAssign (codes "F") PosixSimple (codes "$(t -g)")))) ∷ on_line 2 (Apply (EachLine (ChangeEach (codes "F") (edits.Substitute (codes "$(t -g)") [])))) ∷ on_line 3 (Apply (ExchangeLines (OfRun None (block_lines (codes "else"))) (block_lines (codes "\ttrue")))) ∷ Chain (edit_on 4 (EachLine (SubstValues (codes "b") []))) (edit_on 5 (ChangeLine (Some 2) (codes "F") (edits.InsertWord After (codes "$ b") (codes "$(new a)")))) ((edit_on 7 (ChangeValue Every (codes "F") (edits.Add (codes "$ b")))) ∷ []) ∷ [], ends Done [] (Some (codes "F ::= \r\nifdef A\r\nF +=  #\n\ttrue\nF +=  \nendif\n"))) ∷  -- further-run-108
    (false, 100, codes "override= $(a\tb)\nF ?= -O2 \\\n    $x \n\tfor f in x; do \\\na: b& b&\n\tfor f in x; do \\\n\t  cc $$f; \\\n\tdone\nc: ; true\nF\\\n?=$(a b)\n\t\ttrue\na.b = #\n", on_line 1 (Apply (ChangeLine (Some 1) (codes "F") (edits.InsertWord After (codes "-O2") (codes "-O3")))) ∷ [], ends Done [] (Some (codes "override= $(a\tb)\nF ?= -O2 \\\n    -O3 \\\n    $x \n\tfor f in x; do \\\na: b& b&\n\tfor f in x; do \\\n\t  cc $$f; \\\n\tdone\nc: ; true\nF\\\n?=$(a b)\n\t\ttrue\na.b = #\n"))) ∷  -- further-run-109
    (true, 100, codes "ifdef B\nc:\nifdef A\n\ta\nendif\n\nelse\n\tx\nendif\n\ttrue\noverride = \\ b\nF\\\n= a\t$\\\n  x=1 \\\na \n", Chain (edit_on 1 (AddRecipe (Some 2) (codes "c") (At 1) (codes ">a"))) (edit_on 2 (SwitchLine CommentOut (Some 4294967295) (codes "override"))) ((edit_on 3 (AddLine (BeforeRule (Some 0) (codes "c")) (NewRule (codes "$$ $(p #)") Double (codes "a $$")))) ∷ (edit_on 4 (ChangeValue Every (codes "F") (edits.Set (codes "a\\ b")))) ∷ []) ∷ on_line 5 Undo ∷ on_line 6 (Apply (ChangeLine None (codes "F") (edits.Prepend (codes "b")))) ∷ [], ends Done [] (Some (codes "ifdef B\nc:\nifdef A\n\ta\nendif\n\nelse\n\tx\nendif\n\ttrue\noverride = \\ b\nF\\\n= b a\t$\\\n  x=1 \\\na \n"))) ∷  -- further-run-110
    (false, 2, codes "X =b  $x \nX += b\nX=a b\nX += a b\n#X ?= $(x) # n\n\t  cc $$f; \\", on_line 1 (Apply (ChangeValue (One (Some 2)) (codes "X") (edits.SetIf (codes "a b") (codes "a")))) ∷ Chain (edit_on 2 (SwitchLine CommentOut (Some 2) (codes "override"))) (edit_on 4 (ChangeValue (One (Some 1)) (codes "X") (edits.Add (codes "$x")))) ((edit_on 6 (SwitchLine CommentOut (Some 2) (codes "F"))) ∷ (edit_on 7 (ChangeValue (One (Some 2)) (codes "X") (edits.Remove (codes "b")))) ∷ []) ∷ Chain (edit_on 8 (AddLine (AfterRule None (codes "%.o")) (NewAssign (codes "X") Recursive (codes "-g $(A -g)")))) (edit_on 10 (SwitchLine CommentOut None (codes "X"))) [] ∷ tried_on 11 (ChangeValue Every (codes "X") (edits.Remove (codes "b"))) ∷ on_line 12 (Apply (ChangeLine None (codes "X") (edits.SetOperator Immediate))) ∷ tried_on 13 (ChangeLine (Some 2) (codes "X") (edits.InsertWord Before (codes "-O2") (codes "b"))) ∷ on_line 14 (Apply (ChangePrereqs None (codes "c") (ReplacePrereq (codes "<<E") (codes "<<F")))) ∷ on_line 15 End ∷ on_line 16 End ∷ [], ends (Refused 1) (codes "10: refused 5 Ambiguous 4\n") None) ∷  -- further-run-111
    (true, 100, codes "d&: # c\nendif\noverride = $x a\nF := $(t \\\n -g)\\\n\\\nx$(a  b) \nifdef A\nF\\\n::=\\\n; \\\n \\\n a\\\n-O2\nelse\nF::= a |\nendif", Chain (edit_on 1 (ChangeValue Every (codes "F") (edits.Remove (codes "$(t -g)")))) (edit_on 2 (ExchangeLines (OfRun None (block_lines (codes "d&: # c"))) (block_lines (codes "  b\nendef")))) [] ∷ on_line 6 (Apply (ExchangeLines (AfterRun None (block_lines (codes "override = $x a"))) (block_lines (codes "x \\\n")))) ∷ [], ends Done [] (Some (codes "d&: # c\nendif\noverride = $x a\nx \\\n\nF := x$(a  b) \nifdef A\nF\\\n::=\\\n; \\\n \\\n a\\\n-O2\nelse\nF::= a |\nendif"))) ∷  -- further-run-112
    (false, 100, codes "X = 1\n-include b.mk\nF = aaa aaaa # aa\n", tried_on 1 (ExchangeLines (OfRun None (block_lines (codes "  b"))) []) ∷ on_line 2 Begin ∷ on_line 3 (Apply (ExchangeLines (OfRun None (block_lines (codes "X = 1"))) (block_lines (codes "# n\n# n")))) ∷ [], ends Done [] (Some (codes "# n\n# n\n-include b.mk\nF = aaa aaaa # aa\n"))) ∷  -- further-run-113
    (true, 100, codes "#\\\\\\\n\nF =a -g  -g \\\n    # \\\n d\ndefine D\n\nendef\nexport F ?= $#  -O2# \\\n d\n#Y=\r", on_line 1 (Apply (ExchangeLines (AfterRun None (block_lines (codes "endef"))) (block_lines (codes "define D\nx\nendef")))) ∷ on_line 6 (Apply (ChangeValue Every (codes "F") (edits.Add (codes "x=1")))) ∷ tried_on 7 (ChangeLine (Some 1) (codes "F") (edits.ReplaceWord (codes "-g") (codes "-O2"))) ∷ on_line 8 (Apply (ExchangeLines (AfterRun (Some 2) (block_lines (codes "define D"))) (block_lines (codes "c: d\n\tcp $< $@")))) ∷ on_line 12 (Apply (ChangeValue Every (codes "F") (edits.Append (codes "a$ b -g")))) ∷ on_line 13 (Apply (ChangeValue (One (Some 2)) (codes "F") (edits.Set []))) ∷ on_line 14 (Apply (EachLine (ChangeEach (codes "F") (edits.ReplaceWord (codes "a") (codes "x$(a  b)"))))) ∷ [], ends Done [] (Some (codes "#\\\\\\\n\nF =x$(a  b) -O2  -O2 x=1 a$ b -g \\\n    # \\\n d\ndefine D\n\nendef\ndefine D\nc: d\n\tcp $< $@\nx\nendef\nexport F ?= # \\\n d\n#Y=\r"))) ∷  -- further-run-114
    (false, 100, codes "endif\r\noverride F = ${c} a$ \r\n", tried_on 1 (ExchangeLines (OfRuleRun (Some 1) (codes "c")) []) ∷ tried_on 2 (ChangeValue (One None) (codes "F") (edits.Add (codes "a"))) ∷ on_line 3 (Apply (EachLine (ChangeEach (codes "F") (edits.Substitute (codes "a") [])))) ∷ [], ends Done [] (Some (codes "endif\r\noverride F = ${c} $  \r\n"))) ∷  -- further-run-115
    (true, 2, codes "d&: ;\r\nF = a\r\nF += ;\r\nF=;\r\n\ttrue\r\n\t  cc $$f; \\\r\n", Chain (edit_on 1 (EachLine (SubstValues (codes "cc") (codes "$(y)")))) (edit_on 2 (EachLine (SubstValues (codes " ") (codes "$\\")))) [] ∷ tried_on 3 (ExchangeLines (OfRun None (block_lines (codes "F += ;"))) (block_lines (codes "define D"))) ∷ on_line 4 (Apply (ChangeLine (Some 2) (codes "F") (edits.Substitute (codes ";") []))) ∷ on_line 5 Begin ∷ tried_on 6 (ChangeValue (One None) (codes "Y") (edits.Append (codes "1"))) ∷ on_line 7 Begin ∷ on_line 8 Begin ∷ Chain (edit_on 9 (ExchangeLines (OfRuleRun None (codes "d")) (block_lines (codes "F += a\nifdef A")))) (edit_on 13 (AddLine (BeforeRule (Some 4294967295) (codes "d")) (NewRule (codes "c") Double (codes "a b")))) ((edit_on 14 (EachLine (SubstRecipes (codes "\\") (codes "$(y)")))) ∷ []) ∷ on_line 15 Redo ∷ [], ends (Refused 5) (codes "3: refused 21 Misread\n7: refused 18 GroupOpen\n8: refused 18 GroupOpen\n9: refused 21 Misread\n15: refused 18 GroupOpen\n") (Some (codes "d&: ;\r\nF = a\r\nF += \r\nF=;\r\n\ttrue\r\n\t  cc $$f; \\\r\n"))) ∷  -- further-run-116
    (false, 100, codes "F := |\nc d: b $(w a)\\\n x.o\n", on_line 1 (Apply (ChangeLine None (codes "F") (edits.InsertWord After (codes "|") (codes "x.c")))) ∷ Chain (edit_on 2 (ChangeLine None (codes "F") (edits.ReplaceWord (codes "-g") (codes "; $x")))) (edit_on 4 (ExchangeLines (OfRuleRun (Some 4294967295) (codes "c")) (block_lines (codes "c:\n\ta \\\n\tb")))) ((edit_on 10 (AddRecipe None (codes "c") (At 1) (codes "ifdef Q"))) ∷ (edit_on 11 (AddLine (BeforeVar None (codes "F")) (NewRule (codes "d") Single (codes "a b")))) ∷ []) ∷ on_line 12 (Apply (ChangeLine None (codes "F") (edits.InsertWord After (codes "x.c") (codes "-lz")))) ∷ on_line 13 Undo ∷ on_line 14 (Apply (SwitchLine CommentOut None (codes "F"))) ∷ on_line 15 (Apply (ChangePrereqs None (codes "c") (ReplacePrereq (codes "<<E") (codes "<<F")))) ∷ tried_on 16 (SetRecipe None (codes "d") (ByText (codes " a")) (codes "ifdef Q")) ∷ on_line 17 (Apply (ExchangeLines (AfterRun None (block_lines (codes "#F := | x.c\nc d: b $(w a)\\\n x.o"))) (block_lines (codes "c: d\n\tcp $< $@")))) ∷ [], ends (Refused 1) (codes "15: refused 6 Absent\n") None) ∷  -- further-run-117
    (true, 100, codes ".RECIPEPREFIX = F\nc:\n\ttrue \\\r\n\ttrue\n# F=-g b", on_line 1 (Apply (RemoveLines (OfAssign None (codes "X")))) ∷ [], ends (Refused 1) (codes "1: refused 4 NoSuch\n") (Some (codes ".RECIPEPREFIX = F\nc:\n\ttrue \\\r\n\ttrue\n# F=-g b"))) ∷  -- further-run-118
    (false, 100, codes "override = b $(s (b) a) \\\n    ${v a $(w \\\n a) \nX=\nX = a b\n#X: = 1\n#X = a\\\\ \\\n b\r", on_line 1 (Apply (ChangeLine None (codes ".RECIPEPREFIX") (edits.SetOperator Conditional))) ∷ on_line 2 (Apply (ChangeValue Every (codes "X") (edits.Append (codes "$ b $x")))) ∷ Chain (edit_on 3 (AddLine Top (NewAssign (codes "F") PosixSimple (codes "b")))) (edit_on 5 (AddLine Bottom (NewAssign (codes "define") Immediate (codes "$$")))) [] ∷ on_line 6 Redo ∷ [], ends (Refused 1) (codes "1: refused 2 Reserved\n") None) ∷  -- further-run-119
    (true, 100, codes "c: ; true\n\ta\n# X = \0\n", tried_on 1 (EachLine (SubstRecipes (codes "cc") [])) ∷ [], ends Done [] (Some (codes "c: ; true\n\ta\n# X = \0\n"))) ∷  -- further-run-120
    (false, 2, codes "i:  | a d\nifdef A\nifdef A\nF\\\n+= \\\n \\\n # c\nendif\na: a\\\n x.o\n# n\nendif\nifdef A\nF\\\n+= \\\n    \\\\\\\nÃ©# a \\\\\nelse\nF ::= a:b \nendif\noverride define X =\n\tababa aaa\ninclude a.mk\n  b\nendef\n#>X = 1\n", on_line 1 Redo ∷ on_line 2 (Apply (SwitchLine CommentOut None (codes "F"))) ∷ on_line 3 Redo ∷ [], ends (Refused 1) (codes "1: refused 17 NothingToRedo\n") None) ∷  -- further-run-121
    (true, 100, codes "c: a | b\n# n\n\ta\nc:\nF = a\n\t\n\\\n#\0\nifdef A\nexport X\\\n= $\\ # a \\\\\nelse\nF!=${c} \\\n    a\nendif\n", on_line 1 (Apply (AddLine Bottom (NewRule (codes "d") Double []))) ∷ tried_on 2 (EachLine (SubstRecipe None (codes "c") (codes "a") (codes "#"))) ∷ tried_on 3 (SetRecipe (Some 1) (codes "c") (ByText (codes "#")) (codes "a")) ∷ on_line 4 (Apply (AddLine Top (NewRule (codes "c") Single []))) ∷ tried_on 5 (SwitchLine CommentOut None (codes "F")) ∷ on_line 6 (Apply (EachLine (SubstRecipe None (codes "c") (codes "a") []))) ∷ [], ends (Refused 1) (codes "5: refused 5 Ambiguous 2\n") (Some (codes "c:\nc: a | b\n# n\n\t\nc:\nF = a\n\t\n\\\n#\0\nifdef A\nexport X\\\n= $\\ # a \\\\\nelse\nF!=${c} \\\n    a\nendif\nd::\n"))) ∷  -- further-run-122
    (false, 100, codes ".RECIPEPREFIX = t\r\nc: a | b\n\ta\nif+def A\n\tb\nelse\n\ta\nendif\n\nF ?= a\\$\ta a a\\  \\\n    $(a b)# a \\\\", on_line 1 (Apply (ExchangeLines (AtPlace (AfterRule None (codes "c"))) (block_lines (codes "X = 1\n")))) ∷ on_line 5 (Apply (ExchangeLines (OfRuleRun None (codes "c")) [])) ∷ on_line 6 (Apply (ChangeValue (One None) (codes "X") (edits.Add (codes "a:b")))) ∷ on_line 7 (Apply (ChangeLine None (codes "X") (edits.InsertWord After (codes "a:b") (codes "b")))) ∷ on_line 8 (Apply (ChangeValue (One None) (codes "X") (edits.Add (codes "x=1")))) ∷ on_line 9 (Apply (ExchangeLines (OfRun (Some 2) (block_lines (codes "\ta"))) (block_lines (codes "\n\ta\nif+def A")))) ∷ on_line 14 (Apply (ExchangeLines (OfRun (Some 1) (block_lines [])) [])) ∷ [], ends Done [] (Some (codes ".RECIPEPREFIX = t\r\nX = 1 a:b b x=1\r\n\ta\nif+def A\n\tb\nelse\n\n\ta\nif+def A\nendif\n\nF ?= a\\$\ta a a\\  \\\n    $(a b)# a \\\\"))) ∷  -- further-run-123
    (true, 100, codes ".RE\nPEPREFIX = >\r\n#X: = 1\r\nc: \r\n", on_line 1 (Apply (ChangeValue (One None) (codes "PEPREFIX") (edits.Add (codes "x=1")))) ∷ tried_on 2 (ChangeValue (One (Some 0)) (codes "PEPREFIX") (edits.Add (codes "b"))) ∷ on_line 3 (Apply (ChangeLine None (codes "PEPREFIX") (edits.Substitute (codes "x") (codes "$(")))) ∷ on_line 4 (Apply (ExchangeLines (OfRun None (block_lines (codes "PEPREFIX = > $(=1\n#X: = 1"))) (block_lines (codes "PEPREFIX = > $(=1")))) ∷ tried_on 10 (ChangeValue (One (Some 1)) (codes "F") (edits.Append (codes "$ b $(w a)"))) ∷ on_line 11 Undo ∷ on_line 12 (Apply (ChangeLine None (codes "PEPREFIX") (edits.Prepend (codes "a b")))) ∷ [], ends Done [] (Some (codes ".RE\nPEPREFIX = a b > $(=1\r\n#X: = 1\r\nc: \r\n"))) ∷  -- further-run-124
    (false, 100, codes ".RECIPEPREFIX = >\na: $(w a)\n\ttrue\n\ta\\\r\n\tb\nifdef A", tried_on 1 (ExchangeLines (OfRuleRun (Some 4294967295) (codes "a")) (block_lines (codes "#X = 1\n"))) ∷ on_line 5 (Apply (ChangeLine (Some 1) (codes "F") (edits.Substitute (codes "a") (codes "$$")))) ∷ Chain (edit_on 6 (ExchangeLines (OfRun (Some 2) (block_lines (codes "a: $(w a)"))) [])) (edit_on 7 (ChangeValue (One (Some 1)) (codes "F") (edits.Remove (codes "b")))) ((edit_on 9 (ChangeLine None (codes "F") (edits.ReplaceWord (codes "|") (codes "-g")))) ∷ []) ∷ on_line 10 Undo ∷ on_line 11 Cancel ∷ tried_on 12 (AddLine (AfterLastVar (codes "F")) (NewRule (codes "d") Double (codes "a"))) ∷ on_line 13 Undo ∷ [], ends (Refused 1) (codes "5: refused 4 NoSuch\n") None) ∷  -- further-run-125
    (true, 2, codes "c d: \n\tcc -s y; cc -s z\n\n# n\n", on_line 1 (Apply (AddRecipe (Some 1) (codes "c") (At 1) (codes "a\\"))) ∷ on_line 2 (Apply (ExchangeLines (OfRuleRun None (codes "d")) (block_lines (codes "d:\nifdef A\n\tx\nendif")))) ∷ on_line 8 (Apply (AddLine Top (NewAssign (codes "t") Shell []))) ∷ on_line 9 Redo ∷ on_line 10 (Apply (EachLine (SubstRecipe None (codes "d") (codes "cc") (codes "a")))) ∷ on_line 11 (Apply (ExchangeLines (AtPlace Top) (block_lines (codes "# <<E")))) ∷ [], ends (Refused 3) (codes "1: refused 1 BadArgument line\n2: refused 9 SharedRule 2\n9: refused 17 NothingToRedo\n") (Some (codes "# <<E\nt !=\nc d: \n\ta -s y; a -s z\n\n# n\n"))) ∷  -- further-run-126
    (false, 100, codes "# c\n", Chain (edit_on 1 (RemoveLines (OfRecipe None (codes "c") (ByText (codes "\ttrue"))))) (edit_on 2 (ExchangeLines (OfRun (Some 1) (block_lines (codes "# c"))) (block_lines (codes "ifdef B\nifdef C\nendif\nendif")))) [] ∷ tried_on 8 (ExchangeLines (AtPlace Top) (block_lines (codes "ifdef B"))) ∷ [], ends Done [] (Some (codes "ifdef B\nifdef C\nendif\nendif\n"))) ∷  -- further-run-127
    (true, 100, codes "# F=-g b\n", Chain (edit_on 1 (ExchangeLines (AtPlace (BeforeVar None (codes "F"))) (block_lines (codes "\tababa aaa")))) (edit_on 3 (AddRecipe None (codes "c") (At 1) (codes "t"))) ((edit_on 4 (RemoveLines (OfRecipe (Some 1) (codes "d") (ByText [])))) ∷ (edit_on 6 (AddLine Bottom (NewAssign (codes "Y") Append (codes ".PHONY")))) ∷ []) ∷ on_line 7 (Apply (ChangeValue (One None) (codes "Y") (edits.Remove (codes ".PHONY")))) ∷ on_line 8 (Apply (ChangeValue Every (codes "Y") (edits.SetIf [] (codes "$(a b)")))) ∷ on_line 9 (Apply (SwitchLine Uncomment None (codes "F"))) ∷ [], ends Done [] (Some (codes "F=-g b\nY += $(a b)\n"))) ∷  -- further-run-128
    (false, 100, codes ".RECIPEPREFIX = t\nc: b $(w a) x.o | a d\n# n\n\ta\\\r\n\tb\nd&: a\n>true\n>a\n>true\n>rm -rf x\n", Chain (edit_on 1 (SetRecipe (Some 2) (codes "d") (ByText (codes "say \"q\"")) (codes " a"))) (edit_on 2 (ChangeValue (One None) (codes "F") (edits.Append []))) [] ∷ tried_on 3 (ExchangeLines (OfRun None (block_lines (codes ">a\n>true\n>rm -rf x"))) (block_lines (codes ">a\n>true\n>rm -rf x"))) ∷ on_line 12 (Apply (ChangeValue (One None) (codes "F") (edits.Remove (codes "x$(a  b)")))) ∷ on_line 13 Undo ∷ on_line 14 (Apply (ChangeValue Every (codes "override") (edits.SetIf (codes "$\\x") []))) ∷ tried_on 15 (ChangeLine None (codes "F") (edits.ReplaceWord (codes "a\r") (codes "a# $\\x"))) ∷ Chain (edit_on 16 (ChangeLine (Some 2) (codes "X") (edits.Substitute [] (codes "a\\")))) (edit_on 17 (ChangeValue (One None) (codes "\\#x") (edits.Remove (codes "a\\ b")))) [] ∷ on_line 18 (Apply (ChangeLine None (codes "F") (edits.ReplaceWord (codes "$\\x") (codes "b")))) ∷ [], ends (Refused 1) (codes "2: refused 1 BadArgument value\n") None) ∷  -- further-run-129
    (true, 100, codes "c: # c\n\t a\n\t# n\n\t>a", Chain (edit_on 1 (ExchangeLines (OfRun (Some 2) (block_lines (codes "\t# n\n\t>a"))) [])) (edit_on 5 (AddLine (AfterLastVar (codes "F")) (NewAssign (codes "F") Recursive []))) ((edit_on 6 (ExchangeLines (OfRun None (block_lines (codes "\t# n\n\t>a"))) [])) ∷ []) ∷ on_line 10 (Apply (ExchangeLines (OfRuleRun None (codes "c")) (block_lines (codes "define W\nc: # c\n\t a\nendef")))) ∷ on_line 16 (Apply (ExchangeLines (BeforeRun None (block_lines (codes "endef"))) (block_lines (codes "#X = 1\nvpath %.c a\n\tababa aaa")))) ∷ Chain (edit_on 21 (ChangeValue (One None) (codes "override") (edits.Add (codes "\\\\a")))) (edit_on 22 (ExchangeLines (AtPlace (BeforeVar None (codes "a.b"))) (block_lines (codes "X = ababa\ndefine Q")))) ((edit_on 26 (AddLine Bottom (NewRule (codes "d") Single (codes "a")))) ∷ []) ∷ on_line 27 (Apply (AddRecipe None (codes "d") Last (codes "\tb"))) ∷ on_line 28 (Apply (ExchangeLines (AtPlace (AfterRule (Some 1) (codes "d"))) (block_lines (codes "F = a \\\n  b")))) ∷ on_line 32 (Apply (AddLine Bottom (NewRule (codes "c") Double (codes "a b")))) ∷ on_line 33 (Apply (ChangeValue (One None) (codes "F") (edits.Remove (codes "b")))) ∷ on_line 34 (Apply (ChangeValue (One None) (codes "F") (edits.Append (codes "| a\\ b")))) ∷ [], ends Done [] (Some (codes "define W\nc: # c\n\t a\n#X = 1\nvpath %.c a\n\tababa aaa\nendef\nd: a\n\t\tb\nF = a | a\\ b\nc:: a b\n"))) ∷  -- further-run-130
    (false, 2, codes "include x.o:: a\nF = \nF = a b\n", on_line 1 (Apply (ChangeValue (One (Some 1)) (codes "F") (edits.Remove (codes "${c}")))) ∷ tried_on 2 (ChangeValue Every (codes "F") (edits.Add (codes "b"))) ∷ on_line 3 (Apply (ChangeValue Every (codes "F") (edits.Remove (codes "${c}")))) ∷ tried_on 4 (ExchangeLines (OfRuleRun None (codes "c")) (block_lines (codes "c:\n\tx"))) ∷ on_line 8 (Apply (ChangeLine (Some 2) (codes "F") (edits.InsertWord After (codes "a") (codes "|")))) ∷ on_line 9 Undo ∷ on_line 10 (Apply (ChangeValue (One None) (codes "F") (edits.SetIf (codes "b") (codes "b a\\ b")))) ∷ on_line 11 (Apply (ChangeValue (One (Some 1)) (codes "F") (edits.Set []))) ∷ [], ends (Refused 1) (codes "1: refused 6 Absent\n") None) ∷  -- further-run-131
    []

answers_2 : map (λ row. came_to row.0 row.1 row.2 row.3) rows_2 ≡ map (λ row. row.4) rows_2
unfolding digits
answers_2 = refl

abbrev rows_3 : List (Bool × ℕ × List ℕ × List Step × RunResult)
rows_3 =
    (true, 100, codes "X = -g \nF += -g  b# a \\\\\n", Chain (edit_on 1 (ChangeLine (Some 0) (codes "F") (edits.Substitute (codes "b") []))) (edit_on 3 (EachLine (SubstRecipes (codes "a") []))) ((edit_on 4 (ChangeLine None (codes "X") (edits.Substitute (codes "-") []))) ∷ []) ∷ on_line 5 (Apply (ChangeValue (One None) (codes "X") (edits.Add (codes "a")))) ∷ on_line 6 (Apply (EachLine (ChangeEach (codes "X") (edits.ReplaceWord (codes "-g") (codes "-g"))))) ∷ on_line 7 (Apply (AddLine Top (NewAssign (codes "F") Immediate (codes "$(t -g)")))) ∷ on_line 8 (Apply (ExchangeLines (AtPlace Top) (block_lines []))) ∷ on_line 9 (Apply (SwitchLine CommentOut (Some 1) (codes "F"))) ∷ on_line 10 (Apply (ExchangeLines (OfRun None (block_lines (codes "X = -g a \nF += -g  b# a \\\\"))) [])) ∷ on_line 14 (Apply (ExchangeLines (BeforeRun None (block_lines [])) (block_lines (codes "a: b\nX = 1\ninclude a.mk")))) ∷ on_line 19 (Apply (EachLine (ChangeEach (codes "X") (edits.ReplaceWord (codes "1") (codes "a"))))) ∷ on_line 20 (Apply (ExchangeLines (OfRun None (block_lines [])) [])) ∷ [], ends Done [] (Some (codes "a: b\nX = a\ninclude a.mk\n#F :::= $(t -g)\n"))) ∷  -- further-run-132
    (true, 100, codes "X ::= -g\r\ndefine D", tried_on 1 (ChangeLine (Some 4294967295) (codes "X") (edits.SetOperator Shell)) ∷ Chain (edit_on 2 (SetRecipe None (codes "c") (ByText (codes "ifdef Q")) (codes "b"))) (edit_on 4 (AddLine (AfterRule None (codes "c")) (NewAssign (codes "a.b") PosixSimple (codes "x=1 =")))) [] ∷ Chain (edit_on 5 (ChangeLine (Some 2) (codes "X") (edits.InsertWord After (codes "-g") (codes "x.c")))) (edit_on 7 (ChangeLine None (codes "X") (edits.Prepend (codes "$(t -g)")))) [] ∷ [], ends (Refused 1) (codes "4: refused 4 NoSuch\n") (Some (codes "X ::= $(t -g) -g\r\ndefine D"))) ∷  -- further-run-134
    (false, 100, codes " \n#F \\\n= 1\ni: b& x.o $(w a) | a d\nifdef A\n\tcc -s y; cc -s z\n# x ; y : z = 1\ndefine D\n\nendef\n", on_line 1 (Apply (AddRecipe None (codes "i") (At 2) (codes "a # b"))) ∷ Chain (edit_on 2 (ChangeValue (One None) (codes "F") (edits.Remove (codes "a:b")))) (edit_on 3 (RemoveLines (OfRecipe (Some 2) (codes "c") (ByText (codes "rm -rf x"))))) ((edit_on 5 (RemoveLines (OfRecipe None (codes "i") (ByText (codes "cc -s y; cc -s z"))))) ∷ []) ∷ on_line 6 (Apply (ExchangeLines (AtPlace Top) (block_lines (codes "a\\b: c")))) ∷ on_line 7 (Apply (ExchangeLines (OfRuleRun None (codes "i")) (block_lines (codes "\na")))) ∷ Chain (edit_on 11 (SetRecipe (Some 2) (codes "c") (ByText []) (codes " a"))) (edit_on 13 (ChangeValue Every (codes "F") (edits.Remove (codes "-O2")))) ((edit_on 14 (ExchangeLines (AtPlace Bottom) (block_lines (codes "endif\nifdef B")))) ∷ (edit_on 18 (ExchangeLines (OfRun None (block_lines (codes " "))) [])) ∷ []) ∷ on_line 21 Redo ∷ on_line 22 (Apply (ExchangeLines (OfRun None (block_lines (codes "endef"))) [])) ∷ on_line 23 (Apply (ChangeValue (One None) (codes "override") (edits.Add (codes "-g")))) ∷ Chain (edit_on 24 (ExchangeLines (AtPlace (AfterRule None (codes "c"))) (block_lines (codes "x \\\n")))) (edit_on 28 (ExchangeLines (AtPlace (AfterLastVar (codes "F"))) (block_lines (codes "c: d\n\tcp $< $@")))) [] ∷ [], ends (Refused 1) (codes "1: refused 10 Straddles\n") None) ∷  -- further-run-135
    (true, 2, codes "override define X =\r\nendef\r\nc d: b& a a ; true\r\n\tcc -s y; cc -s z\r\nifdef A\r\nexport F = b\\\r\n$(A -g)\r\nelse\r\nF = -O2 b \\\r\n    | b\r\nendif\r\n#Y=\r\nc: x.o ; true\r\n", [], ends Done [] (Some (codes "override define X =\r\nendef\r\nc d: b& a a ; true\r\n\tcc -s y; cc -s z\r\nifdef A\r\nexport F = b\\\r\n$(A -g)\r\nelse\r\nF = -O2 b \\\r\n    | b\r\nendif\r\n#Y=\r\nc: x.o ; true\r\n"))) ∷  -- further-run-136
    (false, 100, codes "X = 1\nF+= $(a\tb) -g a$\\ b -g \nc::\n\ta\nifdef A\n\tb\nelse\n\ta\nendif\n\nF = a\nc::\n\ta a\n\\\n\t\n", on_line 1 (Apply (ExchangeLines (AfterRun (Some 2) (block_lines (codes "c::"))) (block_lines (codes "#X = 1")))) ∷ on_line 2 Undo ∷ on_line 3 (Apply (ChangeValue (One (Some 1)) (codes "F") (edits.Append (codes "$(s (b) a) a")))) ∷ [], ends Done [] (Some (codes "X = 1\nF+= $(a\tb) -g a$\\ b -g $(s (b) a) a \nc::\n\ta\nifdef A\n\tb\nelse\n\ta\nendif\n\nF = a\nc::\n\ta a\n\\\n\t\n"))) ∷  -- further-run-137
    (true, 100, codes ".RECIPEPREFIX = >\n.PHONY : : %.o\tfoo t \t| x.o \nX = 1\nc d: a\n\tcc -s x\n# n\n", on_line 1 (Apply (EachLine (SubstValues (codes "1") []))) ∷ on_line 2 Undo ∷ Chain (edit_on 3 (ChangeLine None (codes "X") (edits.InsertWord After (codes "a") (codes "1")))) (edit_on 4 (ChangePrereqs (Some 2) (codes "c") (ReplacePrereq (codes "%.o") (codes "%.o")))) ((edit_on 6 (AddRecipe None (codes "c") Last (codes "x"))) ∷ []) ∷ [], ends Done [] (Some (codes ".RECIPEPREFIX = >\n.PHONY : : %.o\tfoo t \t| x.o \nX = 1\nc d: a\n\tcc -s x\n# n\n"))) ∷  -- further-run-138
    (true, 100, codes "c: a\r\n\ta\nifdef A\n\tb\nelse\n\ta\nendif\n\n\nc: a | b\n\ta\nifdef A\n\tb\nX = 1\nendif\nF = a\nF = $(A -g)  a\\$\\\n b  -g ; \n\tababa aaa\nc: ;\n> a\nendif\n>t", on_line 1 (Apply (RemoveLines (OfRecipe (Some 3) (codes "c") (ByText (codes "b"))))) ∷ tried_on 2 (ExchangeLines (BeforeRun None (block_lines (codes "zz"))) (block_lines (codes "endef\ndefine D"))) ∷ on_line 6 (Apply (ChangeValue (One (Some 1)) (codes "F") (edits.Add (codes "a")))) ∷ on_line 7 (Apply (AddLine (AfterLastVar (codes "X")) (NewAssign (codes "X") Shell []))) ∷ tried_on 8 (ExchangeLines (OfRuleRun None (codes "c")) (block_lines (codes "c:\n\tx"))) ∷ on_line 12 (Apply (ChangeLine (Some 1) (codes "F") (edits.Substitute (codes "a\\$ b") (codes ")")))) ∷ on_line 13 Undo ∷ Chain (edit_on 14 (ExchangeLines (OfRun None (block_lines (codes "c: ;"))) (block_lines (codes "ifneq (x,)\nc: ;\nendif")))) (edit_on 21 (ChangeValue Every (codes "F") (edits.SetIf (codes "${c} a\\ b") (codes "-O3 -g")))) [] ∷ on_line 22 (Apply (ChangeLine (Some 0) (codes "X") (edits.Substitute (codes "1") (codes "\t")))) ∷ Chain (edit_on 23 (ChangePrereqs (Some 3) (codes "c") (RemovePrereq (codes "c")))) (edit_on 24 (ChangeValue (One None) (codes "X") (edits.Add (codes "1")))) ((edit_on 25 (RemoveLines (OfRecipe None (codes "c") (ByText (codes "\ttrue"))))) ∷ (edit_on 27 (ChangeValue (One (Some 1)) (codes "F") (edits.Remove (codes "a")))) ∷ []) ∷ [], ends (Refused 5) (codes "1: refused 6 Absent\n6: refused 7 Already\n8: refused 5 Ambiguous 3\n12: refused 6 Absent\n22: refused 4 NoSuch\n") (Some (codes "c: a\r\n\ta\nifdef A\n\tb\nelse\n\ta\nendif\n\n\nc: a | b\n\ta\nifdef A\n\tb\nX = 1\nendif\nF = a\nF = $(A -g)  a\\$\\\n b  -g ; \n\tababa aaa\nifneq (x,)\nc: ;\nendif\n> a\nendif\n>t"))) ∷  -- further-run-140
    (false, 2, codes "ifdef B\nc: a | b\n# n\n\ta\nF = a\nc:\n\ta a\nelse\n\tx\nendif\nF ?= -O2 a$  -g \\#\\\nb # a \\\\\nc d: b b& a\\\n x.o\nifdef A\na.b = b\nelse\nF\\\n= ;\\\n\\\n-g -O2 = \nendif\noverride ?= a:b \\\n-g $ \\\n b\\\nb\n", on_line 1 (Apply (ExchangeLines (OfRun None (block_lines (codes "# n"))) (block_lines (codes "vpath %.c a")))) ∷ on_line 2 Undo ∷ [], ends (Refused 1) (codes "1: refused 14 Leans\n") None) ∷  -- further-run-141
    (true, 100, codes "c&: ; true\n\n\tx \\ y\n#X = a\\\\ \\\n b\noverride ::= | $\\\n\\\na#\n", tried_on 1 (ExchangeLines (BeforeRun None (block_lines (codes "\tx \\ y"))) (block_lines (codes "include a.mk\n\t  cc $$f; \\"))) ∷ on_line 5 (Apply (EachLine (SubstRecipes (codes "x") (codes "yy")))) ∷ on_line 6 (Apply (EachLine (SubstValues (codes "a") []))) ∷ tried_on 7 (RemoveLines (OfAssign None (codes "a.b"))) ∷ on_line 8 (Apply (ChangeLine None (codes "override") (edits.ReplaceWord (codes "|") (codes "a:b $x")))) ∷ on_line 9 (Apply (ChangeValue (One None) (codes "A") (edits.Append (codes "$#")))) ∷ on_line 10 (Apply (ChangePrereqs (Some 2) (codes "c") (ReplacePrereq (codes "c") (codes "a")))) ∷ Chain (edit_on 11 (ExchangeLines (OfRuleRun (Some 2) (codes "c")) (block_lines (codes "ifdef A\nc&: ; true\n\n\tyy \\ y\nendif")))) (edit_on 18 (ExchangeLines (AtPlace (AfterVar None (codes "override"))) (block_lines (codes "define D\nx\nendef")))) [] ∷ on_line 23 (Apply (ChangeLine None (codes "F") (edits.Prepend (codes "<<E")))) ∷ [], ends (Refused 4) (codes "1: refused 1 BadArgument block\n9: refused 4 NoSuch\n10: refused 4 NoSuch\n23: refused 4 NoSuch\n") (Some (codes "c&: ; true\n\n\tyy \\ y\n#X = a\\\\ \\\n b\noverride ::= a:b $x $\\\n\\\n#\ndefine D\nx\nendef\n"))) ∷  -- further-run-142
    (false, 100, codes "# F is on\r\ndefine D\r\n  b\r\n\r\n  b\r\nendef\r\nF=-g -g\\\r\n$(a b)\\\r\n\t$(A -g) -g\r\nF = a\r\n", on_line 1 (Apply (EachLine (ChangeEach (codes "F") (edits.Prepend (codes "a:b"))))) ∷ on_line 2 (Apply (AddLine (AfterLastVar (codes "F")) (NewRule (codes "d") Single (codes "a")))) ∷ on_line 3 (Apply (AddLine Bottom (NewAssign (codes "a.b") Simple (codes "b")))) ∷ tried_on 4 (ChangeLine None (codes "a.b") (edits.Substitute (codes "b") (codes "x=1"))) ∷ [], ends Done [] (Some (codes "# F is on\r\ndefine D\r\n  b\r\n\r\n  b\r\nendef\r\nF=a:b -g -g\\\r\n$(a b)\\\r\n\t$(A -g) -g\r\nF = a:b a\r\nd: a\r\na.b := x=1\r\n"))) ∷  -- further-run-143
    (true, 100, codes "F = $(t \\\n -g) -O2 $(s (b) a)\nF\\\n= $(t \\\n -g) b\\\n\t-g a\t|# a \\\\\nF ::= $x \\\r\n -g\\\n\t-g\\\nx$(a  b) ${c}# a \\\\", [], ends Done [] (Some (codes "F = $(t \\\n -g) -O2 $(s (b) a)\nF\\\n= $(t \\\n -g) b\\\n\t-g a\t|# a \\\\\nF ::= $x \\\r\n -g\\\n\t-g\\\nx$(a  b) ${c}# a \\\\"))) ∷  -- further-run-144
    (true, 2, codes "c: ;\n\tsay \"q\"\n\ttrue\n\t a\noverride define X =\n\ttrue\nendef\n", on_line 1 (Apply (ExchangeLines (OfRuleRun (Some 4294967295) (codes "c")) (block_lines (codes "c:\n\ttrue")))) ∷ on_line 5 (Apply (ChangeValue Every (codes "F") (edits.Set (codes "$$")))) ∷ [], ends (Refused 2) (codes "1: refused 4 NoSuch\n5: refused 4 NoSuch\n") (Some (codes "c: ;\n\tsay \"q\"\n\ttrue\n\t a\noverride define X =\n\ttrue\nendef\n"))) ∷  -- further-run-146
    (false, 100, codes "X = |\nX=|\n:#)a!\\\\\n\n", Chain (edit_on 1 (ExchangeLines (AfterRun (Some 4294967295) (block_lines (codes "X=|\n:#)a!\\\\"))) (block_lines (codes "ifdef B\nifdef C\nendif\nendif")))) (edit_on 10 (ExchangeLines (AtPlace (AfterRule None (codes "c"))) (block_lines (codes "ifdef A\n\tx\nelse\n\ty\nendif")))) ((edit_on 17 (SwitchLine CommentOut None (codes "Q"))) ∷ []) ∷ [], ends (Refused 1) (codes "17: refused 4 NoSuch\n") None) ∷  -- further-run-147
    (true, 100, codes "## F = 1\nc:: a | b\nendif\n\trm -f x\n#X ?= $(x) # n\n#F \\\n= 1\n", on_line 1 (Apply (SwitchLine Uncomment None (codes "X"))) ∷ on_line 2 (Apply (AddLine (AfterRule None (codes "c")) (NewAssign (codes "X") Conditional (codes "$(a b)")))) ∷ on_line 3 (Apply (ExchangeLines (AtPlace Top) (block_lines (codes "else")))) ∷ tried_on 6 (SetRecipe (Some 0) (codes "c") (ByText (codes " a")) (codes "rm -f x")) ∷ on_line 7 (Apply (EachLine (ChangeEach (codes "X") (edits.ReplaceWord (codes "$(x)") (codes "$(w a) ="))))) ∷ on_line 8 (Apply (ExchangeLines (OfRun None (block_lines (codes "\trm -f x"))) (block_lines (codes "define W\n\trm -f x\nendef")))) ∷ tried_on 13 (ChangeValue (One (Some 2)) (codes "X") (edits.Add (codes "="))) ∷ on_line 14 (Apply (ChangeLine (Some 1) (codes "X") (edits.ReplaceWord (codes "$(a b)") (codes "-O2")))) ∷ Chain (edit_on 15 (ChangeValue (One (Some 4294967295)) (codes "X") (edits.SetIf (codes "-O2") (codes "a  b")))) (edit_on 16 (EachLine (ChangeEach (codes "X") (edits.Substitute (codes "cc") (codes "$\\"))))) ((edit_on 17 (ExchangeLines (OfRuleRun None (codes "c")) [])) ∷ []) ∷ Chain (edit_on 18 (AddRecipe (Some 4294967295) (codes "c") (At 1) (codes "t"))) (edit_on 19 (ExchangeLines (AtPlace (BeforeVar (Some 1) (codes "X"))) (block_lines (codes "c:: a | b\nX ?= -O2\nendif")))) ((edit_on 24 (ChangeValue (One (Some 2)) (codes "X") (edits.Append []))) ∷ (edit_on 26 (EachLine (ChangeEach (codes "X") (edits.Substitute (codes "$(w a)") (codes "$\\"))))) ∷ []) ∷ [], ends Done [] (Some (codes "else\n## F = 1\nc:: a | b\nX ?= -O2\nendif\ndefine W\n\trm -f x\nendef\nX ?= $(w a) = # n\n#F \\\n= 1\n"))) ∷  -- further-run-148
    (false, 100, codes "F ::= $(a\tb)", on_line 1 (Apply (EachLine (ChangeEach (codes "F") (edits.SetOperator Immediate)))) ∷ on_line 2 (Apply (ChangeLine None (codes "F") (edits.ReplaceWord (codes "$(a\tb)") (codes "-O2 $(t -g)")))) ∷ on_line 3 (Apply (ChangeLine None (codes "F") (edits.InsertWord After (codes "$(t -g)") (codes "-lz")))) ∷ on_line 4 (Apply (ChangeValue (One None) (codes "F") (edits.Remove (codes "$(t -g)")))) ∷ on_line 5 Undo ∷ on_line 6 (Apply (ExchangeLines (AtPlace Top) (block_lines (codes "c: d\n\tcp $< $@")))) ∷ [], ends Done [] (Some (codes "c: d\n\tcp $< $@\nF :::= -O2 $(t -g) -lz"))) ∷  -- further-run-149
    (true, 100, codes "c:  | a d\nendif\n\ttrue\n\tcc -s x\n\\#:\t$(q:;=|)  b a\nF =$(a\tb) $(s (b) a) # c\n>x.o:%.o\t: ${g(} \t\nX = 1\n\nendif\n", on_line 1 (Apply (ChangeLine None (codes "X") (edits.Substitute (codes "1") (codes "yy")))) ∷ on_line 2 (Apply (ExchangeLines (AtPlace (AfterLastVar (codes "F"))) (block_lines (codes "x \\\n")))) ∷ [], ends Done [] (Some (codes "c:  | a d\nendif\n\ttrue\n\tcc -s x\n\\#:\t$(q:;=|)  b a\nF =$(a\tb) $(s (b) a) # c\nx \\\n\n>x.o:%.o\t: ${g(} \t\nX = yy\n\nendif\n"))) ∷  -- further-run-150
    (false, 2, codes "F?= ; -O2 ; -g\nc: ;\n\tsay \"q\"\n\trm -f x\nd: ;\n\ta\n\tsay \"q\"", tried_on 1 (ChangeValue (One (Some 4294967295)) (codes "F") (edits.Remove (codes "b"))) ∷ on_line 2 Undo ∷ on_line 3 (Apply (EachLine (SubstRecipe None (codes "d") (codes "\0") []))) ∷ on_line 4 Undo ∷ tried_on 5 (ChangeLine (Some 4294967295) (codes "F") (edits.ReplaceWord (codes "-g") (codes "$\\x $(A -g)"))) ∷ on_line 6 (Apply (ExchangeLines (OfRun (Some 1) (block_lines (codes "\tsay \"q\""))) [])) ∷ on_line 9 (Apply (ExchangeLines (BeforeRun None (block_lines (codes "d: ;\n\ta\n\tsay \"q\""))) (block_lines (codes "F = aaa aaaa # aa\n")))) ∷ [], ends (Refused 1) (codes "2: refused 16 NothingToUndo\n") None) ∷  -- further-run-151
    (true, 100, codes "c: # c\n\ta\n\t\ttrue\n## F = 1\ni: $(w a) b&\n\tcc -s y; cc -s z\n\tdone\n#\tX := 1", on_line 1 (Apply (ExchangeLines (AfterRun None (block_lines (codes "\tdone\n#\tX := 1"))) (block_lines (codes "\tdone\na\r")))) ∷ [], ends (Refused 1) (codes "1: refused 1 BadArgument block\n") (Some (codes "c: # c\n\ta\n\t\ttrue\n## F = 1\ni: $(w a) b&\n\tcc -s y; cc -s z\n\tdone\n#\tX := 1"))) ∷  -- further-run-152
    (false, 100, codes "# t = 1\nX = ; ${c}\n", Chain (edit_on 1 (EachLine (ChangeEach (codes "a.b") (edits.Substitute (codes "zz") (codes "x"))))) (edit_on 3 (ChangeLine None (codes "X") (edits.Substitute (codes ";") (codes "aa")))) ((edit_on 4 (ChangeLine None (codes "X") (edits.Substitute (codes " ${") (codes "yy")))) ∷ []) ∷ Chain (edit_on 5 (ExchangeLines (OfRun (Some 4294967295) (block_lines (codes "X = aa ${c}"))) [])) (edit_on 8 (ChangeValue Every (codes "X") (edits.SetIf (codes "a\\ b") (codes "$\\x")))) ((edit_on 9 (ExchangeLines (OfRun None (block_lines (codes "X = aa ${c}"))) [])) ∷ []) ∷ on_line 10 (Apply (ChangeLine None (codes "X") (edits.ReplaceWord (codes "${c}") (codes "$(A -g)")))) ∷ on_line 11 (Apply (ChangeValue (One None) (codes "X") (edits.Add (codes "$ b")))) ∷ on_line 12 (Apply (AddLine Top (NewRule (codes "a") Single (codes "b")))) ∷ on_line 13 (Apply (ExchangeLines (OfRun None (block_lines (codes "# t = 1"))) [])) ∷ [], ends Done [] (Some (codes "a: b\nX = aa $(A -g) $ b\n"))) ∷  -- further-run-153
    (true, 100, codes "ifdef A\nF ::=$\\\n\nelse\nX\\\n+=\\\n $(a\tb) b\\\n ;# a \\\\\nendif\n", tried_on 1 (AddLine (AfterLastVar (codes "F")) (NewAssign (codes "F") Append (codes "-O2"))) ∷ on_line 2 Undo ∷ on_line 3 (Apply (ChangeLine None (codes "X") (edits.SetOperator Simple))) ∷ Chain (edit_on 4 (ChangeValue (One (Some 4294967295)) (codes "override") (edits.Set (codes "$ b b")))) (edit_on 6 (AddLine (AfterLastVar (codes "F")) (NewRule (codes "c") Single (codes "a")))) [] ∷ on_line 7 (Apply (AddLine (AfterRule None (codes "c")) (NewRule (codes "x.o") Single (codes "a")))) ∷ on_line 8 (Apply (EachLine (SubstValues (codes "$ ") (codes "x")))) ∷ tried_on 9 (ExchangeLines (OfRun None (block_lines (codes "F ::=x"))) (block_lines (codes "F ::=x"))) ∷ [], ends Done [] (Some (codes "ifdef A\nF ::=x\nc: a\nx.o: a\nelse\nX\\\n:=\\\n $(a\tb) b\\\n ;# a \\\\\nendif\n"))) ∷  -- further-run-154
    (false, 100, codes "i: \nF\\\n= b\nF := $x a#-g\nc: \nifdef A\nF = a:b\\\n $(A -g) -g # a \\\\\nendif\nc:: a\r", Chain (edit_on 1 (ExchangeLines (AtPlace Top) (block_lines (codes "# a \\\n b")))) (edit_on 5 (ChangeLine (Some 1) (codes "F") (edits.InsertWord Before (codes "-g") (codes "-lz")))) [] ∷ tried_on 6 (ExchangeLines (AtPlace (AfterRule None (codes "i"))) (block_lines (codes "a:\nifdef A\nendif"))) ∷ [], ends Done [] (Some (codes "# a \\\n b\ni: \na:\nifdef A\nendif\nF\\\n= b\nF := $x a#-g\nc: \nifdef A\nF = a:b\\\n $(A -g) -g # a \\\\\nendif\nc:: a\r"))) ∷  -- further-run-155
    (true, 2, codes "-include b.mk\na.b != -g\t${v a $\\\n\\\n=", on_line 1 (Apply (EachLine (ChangeEach (codes "a.b") (edits.Prepend (codes "-g"))))) ∷ on_line 2 (Apply (ExchangeLines (BeforeRun None (block_lines (codes "-include b.mk"))) (block_lines (codes "include a.mk")))) ∷ on_line 5 (Apply (EachLine (SubstValues (codes "-g") (codes "x")))) ∷ tried_on 6 (ChangeLine None (codes "a.b") (edits.ReplaceWord (codes "x") (codes "x=1 x=1"))) ∷ Chain (edit_on 7 (ChangeLine (Some 2) (codes "a.b") (edits.InsertWord Before (codes "x=1") (codes "$(new a)")))) (edit_on 9 (ExchangeLines (OfRun None (block_lines (codes "-include b.mk"))) [])) [] ∷ on_line 10 (Apply (EachLine (ChangeEach (codes "a.b") (edits.ReplaceWord (codes "x=1") (codes "a -g"))))) ∷ tried_on 11 (ExchangeLines (AtPlace (AfterLastVar (codes "a.b"))) (block_lines (codes "ifdef A\nX = 1\nendif"))) ∷ Chain (edit_on 16 (ChangeLine (Some 0) (codes "a.b") (edits.Prepend (codes "$ b")))) (edit_on 17 (ChangeLine None (codes "a.b") (edits.ReplaceWord (codes "a") (codes "$(t -g)")))) [] ∷ [], ends Done [] (Some (codes "include a.mk\na.b != $(t -g) -g $(t -g) -g $(t -g) -g $(t -g) -g\t${v a $\\\n\\\n=\nifdef A\nX = 1\nendif\n"))) ∷  -- further-run-156
    (false, 100, codes "F = a\nF = a\nF = a\ndefine D \\\n e\nendef", tried_on 1 (SwitchLine CommentOut (Some 1) (codes "a.b")) ∷ Chain (edit_on 2 (ExchangeLines (BeforeRun (Some 3) (block_lines (codes "F = a"))) (block_lines (codes "F = a")))) (edit_on 4 (ChangeValue Every (codes "F") (edits.SetIf (codes "a") (codes "-O2 \\#")))) [] ∷ Chain (edit_on 5 (ChangeLine (Some 2) (codes "F") (edits.InsertWord Before (codes "a") (codes "-lz")))) (edit_on 6 (ChangeValue (One (Some 1)) (codes "F") (edits.Add (codes "a")))) ((edit_on 8 (AddLine (AfterRule None (codes "x.o")) (NewAssign (codes "F") Shell (codes "${c} -O2")))) ∷ (edit_on 10 (SwitchLine CommentOut (Some 3) (codes "F"))) ∷ []) ∷ tried_on 11 (ChangeValue (One (Some 2)) (codes "F") (edits.Set [])) ∷ Chain (edit_on 12 (ChangeLine None (codes "X") (edits.InsertWord Before (codes "-g") (codes "x.c")))) (edit_on 14 (ExchangeLines (OfRun (Some 1) (block_lines (codes "F = a"))) [])) ((edit_on 16 (ExchangeLines (AtPlace Bottom) (block_lines (codes "x \\\n")))) ∷ []) ∷ Chain (edit_on 20 (EachLine (ChangeEach (codes "X") (edits.SetOperator Append)))) (edit_on 21 (ChangeValue (One (Some 2)) (codes "F") (edits.Set []))) [] ∷ tried_on 22 (ExchangeLines (OfRun None (block_lines (codes "define D \\\n e\nendef"))) []) ∷ on_line 27 (Apply (EachLine (ChangeEach (codes "F") (edits.SetOperator Append)))) ∷ [], ends Done [] (Some (codes "F += \nF += \n"))) ∷  -- further-run-157
    (true, 100, codes ".R\nCIPEPREFIX = F\nF := a b \\\n    -O2\nc d: x.o x.o $(w a)\n# override \\\n X = 1\n", tried_on 1 (EachLine (SubstValues (codes " b -O2") (codes "x"))) ∷ tried_on 2 (ChangePrereqs (Some 0) (codes "d") (ReplacePrereq (codes "$(w a)") (codes ".PHONY"))) ∷ on_line 3 (Apply (EachLine (SubstValues (codes "F") (codes " \\")))) ∷ [], ends (Refused 1) (codes "3: refused 21 Misread\n") (Some (codes ".R\nCIPEPREFIX = F\nF := ax\nc d: x.o x.o $(w a)\n# override \\\n X = 1\n"))) ∷  -- further-run-158
    (false, 100, codes "ifdef A\r\nX= b\\\r\n\t$(t \\\r\n -g) \r\nelse\r\nF = a\\\r\n \r\nendif\r\nc: a\r\n\ta\r\nifdef A\r\n\tb\r\nelse\r\n\ta\r\nendif\r\n\r\n\r\nc:\r\nifdef A\r\n\ta\r\nendif\r\n\r\n\tb\r\n\r\na: a x.o x.o\r\n# n\r\nendif\r\n", on_line 1 (Apply (ExchangeLines (OfRun (Some 1) (block_lines (codes "endif"))) (block_lines (codes "ifdef A\nendif\nendif")))) ∷ on_line 6 (Apply (ExchangeLines (OfRun (Some 1) (block_lines (codes "ifdef A"))) (block_lines (codes "else\nifdef A")))) ∷ [], ends Done [] (Some (codes "else\r\nifdef A\r\nX= b\\\r\n\t$(t \\\r\n -g) \r\nelse\r\nF = a\\\r\n \r\nifdef A\r\nendif\r\nendif\r\nc: a\r\n\ta\r\nifdef A\r\n\tb\r\nelse\r\n\ta\r\nendif\r\n\r\n\r\nc:\r\nifdef A\r\n\ta\r\nendif\r\n\r\n\tb\r\n\r\na: a x.o x.o\r\n# n\r\nendif\r\n"))) ∷  -- further-run-159
    (true, 100, codes "F = $(w \\\n a) b a = \\\n \\\n $(t \\\n -g) \na: a a $(w a) | b\n\n# n\nifdef A\ni: $(w a) x.o | b\nifdef A\n\tcc -s \\\n>y\\", on_line 1 (Apply (ChangeValue Every (codes "F") (edits.Set (codes "a\\ b")))) ∷ Chain (edit_on 2 (ChangeValue (One None) (codes "F") (edits.SetIf (codes "a") []))) (edit_on 3 (ChangePrereqs None (codes "a") (RemovePrereq (codes "$(w a)")))) [] ∷ on_line 4 (Apply (SwitchLine CommentOut None (codes "override"))) ∷ on_line 5 (Apply (ExchangeLines (OfRuleRun None (codes "i")) [])) ∷ on_line 6 (Apply (ChangePrereqs (Some 1) (codes "i") (ReplacePrereq (codes "\\") (codes "%.c")))) ∷ on_line 7 (Apply (ChangePrereqs (Some 4294967295) (codes "a") (ReplacePrereq (codes "$(w a)") (codes "a")))) ∷ on_line 8 (Apply (AddRecipe None (codes "a") (At 1) (codes "a\0"))) ∷ on_line 9 Undo ∷ Chain (edit_on 10 (EachLine (SubstRecipes (codes "a") (codes "ab")))) (edit_on 12 (ChangeValue (One (Some 2)) (codes "F") (edits.Add (codes "|")))) ((edit_on 13 (ChangeLine None (codes "X") (edits.SetOperator Shell))) ∷ (edit_on 15 (ChangeLine None (codes "F") (edits.Substitute (codes "$(w a)") (codes "x=1")))) ∷ []) ∷ [], ends (Refused 5) (codes "4: refused 4 NoSuch\n5: refused 10 Straddles\n6: refused 1 BadArgument old\n7: refused 4 NoSuch\n8: refused 1 BadArgument line\n") (Some (codes "F = $(w \\\n a) b a = \\\n \\\n $(t \\\n -g) \na: a a $(w a) | b\n\n# n\nifdef A\ni: $(w a) x.o | b\nifdef A\n\tcc -s \\\n>y\\"))) ∷  -- further-run-160
    (false, 2, codes "#override = 1\n", tried_on 1 (SwitchLine CommentOut None (codes "F")) ∷ Chain (edit_on 2 (ExchangeLines (AtPlace Bottom) (block_lines (codes "#override = 1")))) (edit_on 3 (ExchangeLines (AfterRun None (block_lines (codes "#override = 1"))) (block_lines (codes "-include b.mk")))) [] ∷ [], ends Done [] (Some (codes "#override = 1\n"))) ∷  -- further-run-161
    (true, 100, codes "d: ;\n\tx y\n\t>a\nifdef A\nF :=x=1 \\\r\n $(w \\\n a)\nendif\n# override \\\n X = 1\n", tried_on 1 (EachLine (SubstValues (codes " $") (codes "x=1"))) ∷ on_line 2 (Apply (ChangeValue (One None) (codes "F") (edits.Remove (codes "a)")))) ∷ on_line 3 (Apply (ExchangeLines (AtPlace Bottom) (block_lines (codes "# c\nor")))) ∷ tried_on 7 (ChangeLine None (codes "F") (edits.InsertWord Before (codes "x=1x=1(w") (codes "x.c"))) ∷ [], ends Done [] (Some (codes "d: ;\n\tx y\n\t>a\nifdef A\nF :=x.c x=1x=1(w\nendif\n# override \\\n X = 1\n# c\nor\n"))) ∷  -- further-run-162
    (false, 100, codes "else\nc d: \n", tried_on 1 (ExchangeLines (AfterRun None (block_lines (codes "else"))) (block_lines (codes "ifdef A\n\tx\nelse\n\ty\nendif"))) ∷ Chain (edit_on 10 (AddRecipe None (codes "d") (At 1) (codes "ifdef Q"))) (edit_on 11 (RemoveLines (OfRecipe None (codes "c") (ByText (codes "x \\ y"))))) ((edit_on 13 (ExchangeLines (OfRun None (block_lines [])) (block_lines (codes "\n\t  cc $$f; \\\nX = ababa")))) ∷ (edit_on 19 (ExchangeLines (OfRun (Some 1) (block_lines (codes "else"))) [])) ∷ []) ∷ on_line 20 (Apply (ChangeValue Every (codes "F") (edits.Remove (codes "|")))) ∷ [], ends (Refused 1) (codes "20: refused 4 NoSuch\n") None) ∷  -- further-run-163
    (true, 100, codes "\t  cc $\\$f; \t\\\nF = a a\n", on_line 1 (Apply (ExchangeLines (OfRun None (block_lines (codes "\t  cc $\\$f; \t\\\nF = a a"))) (block_lines (codes " \nF = -g\n\t  cc $\\$f; \t\\\nF = a a")))) ∷ on_line 10 (Apply (ExchangeLines (AtPlace (BeforeVar None (codes "F"))) (block_lines (codes "x \\\n")))) ∷ on_line 14 Begin ∷ tried_on 15 (ExchangeLines (OfRun None (block_lines (codes " "))) []) ∷ Chain (edit_on 16 (RemoveLines (OfRecipe None (codes "c") (ByText (codes "\ttrue"))))) (edit_on 17 (ChangeValue (One (Some 1)) (codes "F") (edits.SetIf (codes "-g") (codes "$\\x")))) ((edit_on 19 (AddLine (AfterLastVar (codes "override")) (NewRule (codes "c") Double (codes "a b")))) ∷ (edit_on 21 (EachLine (SubstValues (codes "-g") (codes "aa")))) ∷ []) ∷ [], ends Done [] (Some (codes "x \\\n\nF = $\\x\n\t  cc $\\$f; \t\\\nF = a a\n"))) ∷  -- further-run-164
    (false, 100, codes "override X= a\\\\ $(a\tb) -g -g\\\r\n\t=#\n", on_line 1 (Apply (ExchangeLines (OfRun (Some 0) (block_lines (codes "override X= a\\\\ $(a\tb) -g -g\\\n\t=#"))) [])) ∷ on_line 5 (Apply (ChangeValue (One None) (codes "X") (edits.Remove (codes "-g")))) ∷ on_line 6 (Apply (ChangeLine None (codes "X") (edits.Prepend (codes "a")))) ∷ on_line 7 (Apply (ChangeLine None (codes "F") (edits.InsertWord Before (codes "x=1") (codes "-lz")))) ∷ Chain (edit_on 8 (ExchangeLines (OfRun None (block_lines (codes "override X= a a\\\\ $(a\tb)\\\n\t=#"))) (block_lines (codes "override X= a a\\\\ $(a\tb)\\\n\t=#")))) (edit_on 15 (AddLine (AfterVar None (codes "X")) (NewRule (codes "d") Single (codes "a b")))) [] ∷ [], ends (Refused 1) (codes "1: refused 4 NoSuch\n") None) ∷  -- further-run-165
    (true, 2, codes ".RECIPEPREFIX = t\nF ?= -g a \n# n\n\t\n", Chain (edit_on 1 (ExchangeLines (OfRun None (block_lines (codes ".RECIPEPREFIX = t\nF ?= -g a "))) (block_lines (codes ".RECIPEPREFIX = t\nF ?= -g a \n# n\n\t")))) (edit_on 10 (ExchangeLines (OfRun None (block_lines (codes "# n\n\t"))) (block_lines (codes "define D\nx\nendef")))) ((edit_on 18 (SwitchLine CommentOut None (codes "a.b"))) ∷ (edit_on 20 (ChangeLine None (codes "F") (edits.InsertWord After (codes "a") (codes "-g")))) ∷ []) ∷ Chain (edit_on 21 (ExchangeLines (OfRun (Some 2) (block_lines (codes "\t"))) (block_lines (codes " ")))) (edit_on 22 (ChangeLine None (codes "F") (edits.InsertWord Before (codes "-g") (codes "$(new a)")))) [] ∷ on_line 23 Redo ∷ [], ends (Refused 1) (codes "23: refused 17 NothingToRedo\n") (Some (codes ".RECIPEPREFIX = t\nF ?= $(new a) -g a \n# n\n\t\n"))) ∷  -- further-run-166
    (false, 100, codes " \nX = ababa\nF += a\n\nd&: ;\n\t# n\n\t# n\nendif\nc: a | b\n\t\ttrue\n\ta\nifdef A\nF != =\nelse\nF =a$\\ -g  x=1\\\n\\\n$x \\\n    a\\ # a \\\\\nendif\n", on_line 1 (Apply (AddLine Top (NewAssign (codes "override") PosixSimple (codes "-g")))) ∷ Chain (edit_on 2 (SetRecipe (Some 0) (codes "d") (ByNumber 0) (codes "\tb"))) (edit_on 3 (ExchangeLines (AtPlace (AfterLastVar (codes "F"))) (block_lines (codes "F =a$\\ -g  x=1\\\n\\\n$x \\\n    a\\ # a \\\\\nendif")))) ((edit_on 11 (ChangeLine (Some 1) (codes "F") (edits.InsertWord After (codes "a") (codes "$(new a)")))) ∷ (edit_on 12 (AddRecipe None (codes "d") (At 1) (codes "\ttrue"))) ∷ []) ∷ on_line 13 (Apply (ChangeValue (One None) (codes "override") (edits.Remove (codes "-g")))) ∷ on_line 14 (Apply (ChangeValue (One (Some 1)) (codes "F") (edits.Set (codes "$\\x")))) ∷ on_line 15 Undo ∷ on_line 16 (Apply (SetRecipe None (codes "c") (ByText (codes "a")) (codes "rm -rf x"))) ∷ on_line 17 (Apply (ExchangeLines (OfRuleRun None (codes "c")) (block_lines (codes "c:\nifdef A\n\tx\nendif")))) ∷ on_line 23 (Apply (SwitchLine CommentOut (Some 3) (codes "F"))) ∷ on_line 24 (Apply (ExchangeLines (AtPlace Top) (block_lines (codes "ifdef A\nX = 1\nendif")))) ∷ [], ends Done [] (Some (codes "ifdef A\nX = 1\nendif\noverride ::= \n \nX = ababa\nF += a\n\nd&: ;\n\t# n\n\t# n\nendif\nc:\nifdef A\n\tx\nendif\nifdef A\nF != =\nelse\n#F =a$\\ -g  x=1\\\n\\\n$x \\\n    a\\ # a \\\\\nendif\n"))) ∷  -- further-run-167
    (true, 100, codes "a: $(w a) b& a\n# n\n\tcc -s y; cc -s z\nX = 1\n# export F = a", on_line 1 (Apply (ExchangeLines (AfterRun None (block_lines (codes "# export F = a"))) (block_lines (codes "\n")))) ∷ Chain (edit_on 5 (AddRecipe (Some 2) (codes "a") (At 1) (codes ">a"))) (edit_on 7 (ChangeLine None (codes "X") (edits.SetOperator Append))) ((edit_on 8 (ChangeValue (One (Some 4294967295)) (codes "F") (edits.SetIf (codes "b") []))) ∷ (edit_on 9 (ChangeValue Every (codes "X") (edits.Remove (codes "1")))) ∷ []) ∷ [], ends Done [] (Some (codes "a: $(w a) b& a\n# n\n\tcc -s y; cc -s z\nX += 1\n# export F = a\n\n\n"))) ∷  -- further-run-168
    (false, 100, codes ".RECIPEPREFIX = >\nF = -g", on_line 1 Begin ∷ on_line 2 (Apply (AddLine (AfterRule None (codes "c")) (NewAssign (codes "F") Immediate (codes "a$ ")))) ∷ [], ends (Refused 1) (codes "2: refused 1 BadArgument value\n") None) ∷  -- further-run-169
    (true, 100, codes "i: \nF = a\nF = -g \\ b\n", tried_on 1 (ChangeLine (Some 1) (codes "F") (edits.InsertWord After (codes "a") (codes "-O3"))) ∷ on_line 2 (Apply (ExchangeLines (AtPlace (AfterLastVar (codes "F"))) (block_lines (codes "X = 1\n")))) ∷ on_line 6 (Apply (ExchangeLines (AtPlace (AfterRule None (codes "i"))) (block_lines (codes "X = 1\n")))) ∷ tried_on 10 (ChangeValue (One None) (codes "F") (edits.SetIf (codes "-g") (codes "$x"))) ∷ Chain (edit_on 11 (ExchangeLines (OfRun None (block_lines (codes "i: \nX = 1"))) (block_lines (codes "i: ")))) (edit_on 17 (AddLine (AfterRule None (codes "i")) (NewAssign (codes "X") Append (codes "-g")))) [] ∷ on_line 18 (Apply (AddLine (AfterRule None (codes "i")) (NewAssign (codes "a.b") Simple (codes "\\\\a")))) ∷ on_line 19 (Apply (ChangeLine None (codes "F") (edits.InsertWord After (codes "<<E") (codes "a")))) ∷ Chain (edit_on 20 (AddRecipe None (codes "i") (At 1) (codes "t"))) (edit_on 22 (ExchangeLines (AtPlace (AfterLastVar (codes "F"))) (block_lines (codes "a:\nifdef A\nendif")))) [] ∷ [], ends (Refused 1) (codes "19: refused 5 Ambiguous 2\n") (Some (codes "i: \n\tt\na.b := \\\\a\n\nF = a -O3\nF = -g \\ b\nX = 1\n\n"))) ∷  -- further-run-170
    (true, 100, codes "a\\b: c\nese\nX = ababa\nc&: a | b\noverrid+e= b \\\n    | |\n>\n>rm -rf x\noverride override?= $(A -g) x=1\n", on_line 1 (Apply (EachLine (SubstValues (codes "ababa") (codes "a\\")))) ∷ Chain (edit_on 2 (ExchangeLines (OfRuleRun (Some 4294967295) (codes "c")) (block_lines (codes "c:\nifdef A\n\tx\nendif")))) (edit_on 8 (ChangeLine None (codes "override") (edits.InsertWord After (codes "$(A -g)") (codes "x.c")))) [] ∷ on_line 9 (Apply (ExchangeLines (OfRun None (block_lines (codes "X = 1\nzz"))) [])) ∷ on_line 13 (Apply (SwitchLine CommentOut None (codes "override"))) ∷ on_line 14 Undo ∷ [], ends (Refused 2) (codes "1: refused 21 Misread\n9: refused 4 NoSuch\n") (Some (codes "a\\b: c\nese\nX = ababa\nc&: a | b\noverrid+e= b \\\n    | |\n>\n>rm -rf x\noverride override?= $(A -g) x.c x=1\n"))) ∷  -- further-run-172
    (false, 100, codes "F\\\n=\\\n\\\n$(a b) x=1  =# \\\n d\nF != a$\\ a ${v a\\\n\tb \n", tried_on 1 (ExchangeLines (OfRun None (block_lines (codes "zz"))) (block_lines (codes "else"))) ∷ on_line 2 (Apply (ExchangeLines (OfRun None (block_lines (codes "F != a$\\ a ${v a\\\n\tb "))) (block_lines (codes "\t# n\n\tababa aaa")))) ∷ on_line 9 Begin ∷ on_line 10 (Apply (ChangeLine None (codes "F") (edits.Substitute (codes "x=1") []))) ∷ Chain (edit_on 11 (ChangeValue (One (Some 0)) (codes "F") (edits.Set (codes "-O2")))) (edit_on 12 (ExchangeLines (AfterRun None (block_lines (codes "F\\\n=\\\n\\\n$(a b)   =# \\\n d"))) (block_lines (codes "F\\\n=\\\n\\\n$(a b)   =# \\\n d\n\t# n\n\tababa aaa")))) ((edit_on 28 (ChangeLine (Some 1) (codes "a.b") (edits.Prepend (codes "=")))) ∷ (edit_on 30 (ExchangeLines (OfRun None (block_lines (codes "\t# n"))) (block_lines (codes "X = ababa")))) ∷ []) ∷ [], ends Done [] (Some (codes "F\\\n=\\\n\\\n$(a b)   =# \\\n d\n\t# n\n\tababa aaa\n"))) ∷  -- further-run-173
    (true, 100, codes "a: b b& b ; true\na.b := a\\\\ $(A -g)\\\n\\\n-g\nc c: ; true\nF=# a \\\\\nF\\\n+= = \\\n \\\n ;\\\n\t-g -g\\\n-g# \\\n d\n", on_line 1 (Apply (EachLine (ChangeEach (codes "a.b") (edits.Prepend (codes "\\#"))))) ∷ on_line 2 (Apply (RenameTarget (codes "c") (codes "t"))) ∷ on_line 3 (Apply (ChangeLine None (codes "a.b") (edits.InsertWord After (codes "$(A -g)") (codes "-O3")))) ∷ tried_on 4 (ChangeValue Every (codes "F") (edits.Set (codes "a"))) ∷ on_line 5 (Apply (ExchangeLines (OfRuleRun None (codes "a")) (block_lines (codes "a:\n# n\n")))) ∷ tried_on 10 (ExchangeLines (AtPlace (AfterLastVar (codes "F"))) (block_lines (codes "else\nX = 1"))) ∷ on_line 14 (Apply (ExchangeLines (OfRun None (block_lines (codes "a:\n# n\n"))) (block_lines (codes "else\nF = aaa aaaa # aa")))) ∷ [], ends Done [] (Some (codes "else\nF = aaa aaaa # aa\na.b := \\# a\\\\ $(A -g)\\\n\\\n-O3\\\n\\\n-g\nt t: ; true\nF=a# a \\\\\nF\\\n+= a# \\\n d\nelse\nX = 1\n"))) ∷  -- further-run-174
    (false, 100, codes "c: a\n\ta\nifdef A\n\tb\nX = 1\nendif\nc:\nF = a\na.b += a b\na.b += b\na.b = b\n", on_line 1 (Apply (ExchangeLines (OfRun None (block_lines (codes "\ta"))) (block_lines (codes "ifneq (x,)\n\ta\nendif")))) ∷ on_line 6 (Apply (ChangeValue Every (codes "a.b") (edits.Remove (codes "b")))) ∷ on_line 7 (Apply (ExchangeLines (OfRun (Some 1) (block_lines (codes "endif"))) [])) ∷ on_line 8 End ∷ on_line 9 Undo ∷ on_line 10 (Apply (ExchangeLines (AfterRun (Some 2) (block_lines (codes "endif"))) (block_lines (codes "c:")))) ∷ on_line 11 (Apply (ExchangeLines (OfRuleRun (Some 1) (codes "c")) (block_lines (codes "\tfor f in x; do \\\n\t")))) ∷ [], ends (Refused 1) (codes "7: refused 21 Misread\n") None) ∷  -- further-run-175
    (true, 2, codes "F = a | = # a \\\\\r\nF += ; -g ;\tx$(a  b) \\\r\n    a$  \r\noverride X ::= $(a\tb)#-g\r\n", on_line 1 (Apply (ChangeValue (One None) (codes "X") (edits.Remove (codes "$(a\tb)")))) ∷ Chain (edit_on 2 (ChangeLine (Some 0) (codes "X") (edits.Substitute (codes "\\") (codes "$$")))) (edit_on 4 (ChangeValue (One (Some 1)) (codes "F") (edits.Append (codes "$ b")))) [] ∷ tried_on 5 (ChangeValue (One (Some 1)) (codes "F") (edits.Set (codes "$(q:;=|)"))) ∷ [], ends Done [] (Some (codes "F = $(q:;=|) # a \\\\\r\nF += ; -g ;\tx$(a  b) \\\r\n    a$  \r\noverride X ::= #-g\r\n"))) ∷  -- further-run-176
    (false, 100, codes "c d: b b a ; true\n# n\nvpath %.c a\n#override\texport X := b\n", on_line 1 Redo ∷ on_line 2 Undo ∷ on_line 3 (Apply (ExchangeLines (OfRun None (block_lines (codes "#override\texport X := b"))) (block_lines (codes "\tdone\n#X = 1")))) ∷ on_line 7 (Apply (ExchangeLines (OfRun (Some 4294967295) (block_lines (codes "#X = 1"))) (block_lines (codes "ifdef Q\na\\")))) ∷ on_line 13 (Apply (AddLine Bottom (NewAssign (codes "X") Recursive (codes "a")))) ∷ on_line 14 (Apply (SwitchLine CommentOut None (codes "F"))) ∷ on_line 15 (Apply (SwitchLine CommentOut None (codes "X"))) ∷ [], ends (Refused 1) (codes "1: refused 17 NothingToRedo\n") None) ∷  -- further-run-177
    (true, 100, codes "endef\n \n#X = 1", on_line 1 (Apply (ExchangeLines (AtPlace Bottom) (block_lines (codes "x \\\n")))) ∷ on_line 5 (Apply (ExchangeLines (OfRun None (block_lines (codes "x \\\n"))) (block_lines (codes "ifneq (x,)\nx \\\n\nendif")))) ∷ on_line 14 (Apply (AddRecipe (Some 0) (codes "c") (At 1) [])) ∷ Chain (edit_on 15 (ExchangeLines (OfRun None (block_lines (codes "endif"))) (block_lines (codes "endif")))) (edit_on 17 (RemoveLines (OfAssign (Some 2) (codes "a.b")))) ((edit_on 18 (ExchangeLines (AtPlace (AfterRule None (codes "c"))) (block_lines (codes "ifdef B\nifdef C\nendif\nendif")))) ∷ []) ∷ on_line 24 (Apply (ExchangeLines (OfRun (Some 4294967295) (block_lines (codes "endif"))) [])) ∷ [], ends (Refused 2) (codes "14: refused 4 NoSuch\n24: refused 4 NoSuch\n") (Some (codes "endef\n \n#X = 1\nifneq (x,)\nx \\\n\nendif\n"))) ∷  -- further-run-178
    (false, 100, codes "F ?=  \r\n# export F = a\r\n", tried_on 1 (ExchangeLines (OfRun (Some 2) (block_lines (codes "F ?=  "))) (block_lines (codes " \n>x"))) ∷ Chain (edit_on 7 (EachLine (SubstValues (codes "\\") (codes "-O3")))) (edit_on 9 (ExchangeLines (AtPlace (AfterLastVar (codes "F"))) (block_lines (codes ">x")))) [] ∷ [], ends Done [] (Some (codes "F ?=  \r\n# export F = a\r\n"))) ∷  -- further-run-179
    (true, 100, codes "b $$ \t:override :::= \t| b\\\n\t\\\r\n#\\\\\\\n\nifdef A\nF = -g\nendif", on_line 1 (Apply (ExchangeLines (AtPlace (AfterRule None (codes "c"))) (block_lines (codes "\ttrue")))) ∷ on_line 2 (Apply (ChangeLine None (codes "F") (edits.Substitute (codes "-g") []))) ∷ on_line 3 End ∷ on_line 4 (Apply (ChangeLine None (codes "F") (edits.InsertWord After (codes "a b") (codes "$(new a)")))) ∷ on_line 5 (Apply (EachLine (ChangeEach (codes "F") (edits.SetOperator Immediate)))) ∷ [], ends (Refused 3) (codes "1: refused 4 NoSuch\n3: refused 19 NoGroup\n4: refused 1 BadArgument word\n") (Some (codes "b $$ \t:override :::= \t| b\\\n\t\\\r\n#\\\\\\\n\nifdef A\nF :::= \nendif"))) ∷  -- further-run-180
    (false, 2, codes "F ?= x=1 a\\\r\n\\\n$\\\n -O2 ", on_line 1 (Apply (ExchangeLines (OfRun None (block_lines (codes "F ?= x=1 a\\\n\\\n$\\\n -O2 "))) (block_lines (codes "\tcc -s x")))) ∷ on_line 7 Undo ∷ tried_on 8 (ChangeValue (One None) (codes "F") (edits.SetIf (codes "a:b") (codes "-g"))) ∷ Chain (edit_on 9 (EachLine (ChangeEach (codes "F") (edits.ReplaceWord (codes "a") (codes "$ b"))))) (edit_on 10 (ChangeValue (One None) (codes "X") (edits.Append (codes "$(w a) \\\\a")))) ((edit_on 12 (ChangeValue (One (Some 0)) (codes "F") (edits.Add (codes "$(A -g)")))) ∷ (edit_on 14 (ChangeLine None (codes "F") (edits.InsertWord Before (codes "$ -O2") (codes "-O3")))) ∷ []) ∷ tried_on 15 (ChangeLine (Some 1) (codes "F") (edits.ReplaceWord (codes "$ -O2") (codes "a "))) ∷ on_line 16 (Apply (ChangeLine None (codes "F") (edits.InsertWord After (codes "$ -O2") (codes "-lz")))) ∷ [], ends (Refused 1) (codes "15: refused 1 BadArgument value\n") None) ∷  -- further-run-181
    (true, 100, codes "override define X =\n\tababa aaa\nendef\nx.o c: # c\nifdef A\n\ttrue \\\r\n\ttrue\noverride X +=| x=1\n#include = x", Chain (edit_on 1 (ChangeLine (Some 2) (codes "X") (edits.ReplaceWord (codes "|") (codes "|")))) (edit_on 2 (ExchangeLines (OfRun None (block_lines (codes "X = 1\nzz"))) [])) ((edit_on 6 (EachLine (ChangeEach (codes "X") (edits.ReplaceWord (codes "a\0") (codes "\\\\a b"))))) ∷ []) ∷ on_line 7 (Apply (AddLine Bottom (NewAssign (codes "t") Simple []))) ∷ on_line 8 Undo ∷ on_line 9 (Apply (ChangeValue Every (codes "X") (edits.SetIf (codes "| x=1") (codes "b")))) ∷ on_line 10 Cancel ∷ Chain (edit_on 11 (ExchangeLines (OfRuleRun (Some 2) (codes "c")) (block_lines (codes "c:\nifdef A\n\tx\nendif")))) (edit_on 18 (EachLine (SubstRecipes [] (codes "a b")))) ((edit_on 19 (SetRecipe None (codes "c") (ByText (codes "# n")) (codes "b"))) ∷ []) ∷ Chain (edit_on 20 (ChangeValue (One None) (codes "X") (edits.Remove (codes "b")))) (edit_on 22 (ExchangeLines (OfRuleRun (Some 2) (codes "x.o")) (block_lines (codes "endif\nifdef B")))) ((edit_on 26 (ChangeValue (One (Some 4294967295)) (codes "X") (edits.Add (codes "$x")))) ∷ []) ∷ on_line 27 (Apply (EachLine (SubstRecipe None (codes "c") (codes "\0") (codes "ab")))) ∷ [], ends (Refused 4) (codes "6: refused 1 BadArgument word\n10: refused 19 NoGroup\n18: refused 1 BadArgument from\n27: refused 1 BadArgument from\n") (Some (codes "override define X =\n\tababa aaa\nendef\nx.o c: # c\nifdef A\n\ttrue \\\r\n\ttrue\noverride X +=\n#include = x"))) ∷  -- further-run-182
    (false, 100, codes "i: a ; true\n\tcc -s \\\n>y\nifdef A\ni: \\\n x.o\n\tfor f in x; do \\\n\t  cc $$f; \\\n\tdone\n\nendif\nc: b& | a d\n\tcc -s \\\n>y\n\nifdef A", on_line 1 (Apply (ExchangeLines (OfRun (Some 4294967295) (block_lines (codes "endif"))) [])) ∷ on_line 2 (Apply (ExchangeLines (OfRun (Some 1) (block_lines (codes "ifdef A"))) [])) ∷ Chain (edit_on 5 (ChangePrereqs (Some 2) (codes "i") (ReplacePrereq (codes "${c}") (codes "$(f {)")))) (edit_on 6 (ExchangeLines (OfRun None (block_lines (codes "\tfor f in x; do \\\n\t  cc $$f; \\\n\tdone"))) [])) ((edit_on 12 (ChangeLine None (codes "F") (edits.ReplaceWord (codes "x$(a  b)") (codes "a$ b")))) ∷ []) ∷ [], ends (Refused 1) (codes "1: refused 4 NoSuch\n") None) ∷  -- further-run-183
    (true, 100, codes "ifdef A\r\noverride := \\ b \\\r\n \\\r\n \r\nendif\r\n#X = r\\\r\n s\r\n\t#F = t\r\nF =\\\r\n  \r\nF != -O2 $(t \\\r\n -g)#-g\r\nd: a\r\n", on_line 1 (Apply (AddLine (AfterLastVar (codes "F")) (NewAssign (codes "F") Append []))) ∷ on_line 2 (Apply (AddLine (AfterLastVar (codes "override")) (NewAssign (codes "F") Shell (codes "x=1 $\\x")))) ∷ on_line 3 (Apply (RenameTarget (codes "a") (codes "a"))) ∷ tried_on 4 (SetRecipe None (codes "d") (ByText (codes "ifdef Q")) (codes "a")) ∷ [], ends (Refused 1) (codes "3: refused 4 NoSuch\n") (Some (codes "ifdef A\r\noverride := \\ b \\\r\n \\\r\n \r\nF != x=1 $\\x\r\nendif\r\n#X = r\\\r\n s\r\n\t#F = t\r\nF =\\\r\n  \r\nF != -O2 $(t \\\r\n -g)#-g\r\nF +=\r\nd: a\r\n"))) ∷  -- further-run-184
    (false, 100, codes "c include: ;\r", Chain (edit_on 1 (ExchangeLines (AtPlace (AfterVar (Some 1) (codes "a.b"))) (block_lines (codes "ifdef A\n\tx\nelse\n\ty\nendif")))) (edit_on 8 (ChangeValue (One (Some 0)) (codes "F") (edits.Append (codes "a a$ b")))) ((edit_on 9 (AddLine (AfterLastVar (codes "override")) (NewRule (codes "d") Double (codes "a b")))) ∷ []) ∷ on_line 10 (Apply (ExchangeLines (AtPlace (AfterRule None (codes "d"))) (block_lines (codes "\tfor f in x; do \\")))) ∷ tried_on 11 (ChangeLine None (codes "F") (edits.InsertWord Before (codes ";") (codes "$ b"))) ∷ on_line 12 (Apply (ExchangeLines (OfRun None (block_lines (codes "c include: ;\r"))) [])) ∷ on_line 13 (Apply (ExchangeLines (AtPlace Top) (block_lines (codes "endef\n\tdone")))) ∷ on_line 17 (Apply (ExchangeLines (OfRun None (block_lines (codes "\tdone"))) (block_lines (codes "ifneq (x,)\n\tdone\nendif")))) ∷ on_line 24 (Apply (ExchangeLines (BeforeRun None (block_lines (codes "\tdone"))) (block_lines (codes "ifneq (x,)\n\tdone")))) ∷ on_line 28 (Apply (ExchangeLines (OfRun (Some 2) (block_lines (codes "endef"))) [])) ∷ on_line 29 (Apply (ExchangeLines (OfRun None (block_lines (codes "endif"))) (block_lines (codes "ifneq (x,)\nendif\nendif")))) ∷ [], ends (Refused 1) (codes "9: refused 4 NoSuch\n") None) ∷  -- further-run-185
    []

answers_3 : map (λ row. came_to row.0 row.1 row.2 row.3) rows_3 ≡ map (λ row. row.4) rows_3
unfolding digits
answers_3 = refl

abbrev rows_4 : List (Bool × ℕ × List ℕ × List Step × RunResult)
rows_4 =
    (true, 2, codes "\tababa aaa\n", on_line 1 (Apply (ExchangeLines (OfRun None (block_lines (codes "\tababa aaa"))) [])) ∷ tried_on 4 (ExchangeLines (AtPlace Bottom) (block_lines (codes "X = 1\n"))) ∷ tried_on 8 (ExchangeLines (OfRun None (block_lines (codes "X = 1\n"))) (block_lines (codes "X = 1\n"))) ∷ on_line 15 (Apply (AddLine Top (NewRule (codes "c") Double (codes "a")))) ∷ tried_on 16 (ExchangeLines (AtPlace (BeforeRule None (codes "c"))) (block_lines (codes "\tfor f in x; do \\\nifdef A"))) ∷ on_line 20 (Apply (ChangeValue (One None) (codes "X") (edits.SetIf (codes "1") (codes "b")))) ∷ tried_on 21 (ChangeValue (One (Some 4294967295)) (codes "X") (edits.SetIf (codes "-O2 b") (codes "\\#"))) ∷ [], ends Done [] (Some (codes "\tfor f in x; do \\\nifdef A\nc:: a\nX = b\n\n"))) ∷  -- further-run-186
    (false, 100, codes "\tdone\nF = -g\nendif", on_line 1 (Apply (ExchangeLines (OfRun (Some 0) (block_lines (codes "endif"))) (block_lines (codes "#X = 1\nF = aaa aaaa # aa")))) ∷ on_line 5 (Apply (ExchangeLines (AtPlace (BeforeVar None (codes "F"))) (block_lines (codes "F = a \\")))) ∷ on_line 6 (Apply (ExchangeLines (OfRun None (block_lines (codes "F = -g"))) (block_lines (codes "F = -g\nendif")))) ∷ on_line 10 Undo ∷ on_line 11 Begin ∷ [], ends (Refused 1) (codes "1: refused 4 NoSuch\n") None) ∷  -- further-run-187
    (true, 100, codes "endef\n", [], ends Done [] (Some (codes "endef\n"))) ∷  -- further-run-188
    (false, 100, codes "#c \\\n d\n", Chain (edit_on 1 (AddLine (AfterVar None (codes "F")) (NewRule (codes "c") Single []))) (edit_on 3 (ExchangeLines (AfterRun None (block_lines (codes "#c \\\n d"))) (block_lines (codes "endif\nifdef B")))) [] ∷ Chain (edit_on 10 (SetRecipe None (codes "%.o") (ByText (codes "a # b")) (codes "t"))) (edit_on 12 (ChangeValue (One None) (codes "X") (edits.Append (codes "-g \\\\a")))) ((edit_on 13 (EachLine (SubstRecipes (codes " ") (codes "$")))) ∷ (edit_on 14 (ExchangeLines (AtPlace (AfterRule None (codes "a b"))) (block_lines (codes "define D")))) ∷ []) ∷ on_line 15 (Apply (ExchangeLines (AtPlace (BeforeVar None [])) (block_lines (codes "\tdone")))) ∷ tried_on 16 (SwitchLine CommentOut None (codes "F")) ∷ tried_on 17 (ExchangeLines (OfRun (Some 4294967295) (block_lines (codes "#c \\\n d"))) []) ∷ tried_on 21 (ExchangeLines (OfRuleRun (Some 0) (codes "c")) (block_lines (codes "# a \\\n b"))) ∷ tried_on 25 (ExchangeLines (AtPlace (BeforeVar None (codes "a.b"))) (block_lines (codes "endef\ndefine D"))) ∷ [], ends (Refused 1) (codes "3: refused 21 Misread\n") None) ∷  -- further-run-189
    (true, 100, codes "X= $(s (b) a)\n", tried_on 1 (ChangeValue Every (codes "F") (edits.SetIf (codes "b a$ b") (codes "$(a b)"))) ∷ tried_on 2 (ChangeValue (One None) (codes "X") (edits.Remove (codes "$(s (b) a)"))) ∷ on_line 3 (Apply (ChangeLine None (codes "X") (edits.Prepend (codes "-g")))) ∷ on_line 4 (Apply (ExchangeLines (BeforeRun None (block_lines (codes "X = 1"))) (block_lines (codes "# x")))) ∷ Chain (edit_on 9 (ChangeValue (One None) (codes "X") (edits.Remove (codes "-g")))) (edit_on 11 (ExchangeLines (OfRun None (block_lines (codes "X= -g"))) [])) [] ∷ on_line 12 (Apply (ExchangeLines (AfterRun None (block_lines (codes "X= "))) (block_lines (codes "a: b")))) ∷ on_line 13 (Apply (ExchangeLines (OfRuleRun None (codes "a")) (block_lines (codes "a:\n# n\n")))) ∷ [], ends (Refused 1) (codes "4: refused 4 NoSuch\n") (Some (codes "X= \na:\n# n\n\n"))) ∷  -- further-run-190
    (false, 2, codes "F = aaa aaaa # aa\n\t  cc $$f; \\\n\tcc -s x\nc: # c\n\tx \\ y\n\tifdef Q\n\ttrue\na.b\\\n= ; \\\n \\\n -g\nc:: # c\n# n\ninclude : x.o\\\n\t| \nifdef A\nX\\\n= b\\\n $$\nendif\n", on_line 1 (Apply (ExchangeLines (AfterRun None (block_lines (codes "a.b\\\n= ; \\\n \\\n -g\nc:: # c"))) (block_lines (codes "endef\ndefine D")))) ∷ tried_on 11 (EachLine (SubstRecipe None (codes "c") (codes "x") (codes "/usr"))) ∷ tried_on 12 (ExchangeLines (OfRun (Some 0) (block_lines (codes "c: # c\n\t/usr \\ y"))) []) ∷ tried_on 16 (ChangeLine (Some 2) (codes "X") (edits.InsertWord After (codes "$$") (codes "$(new a)"))) ∷ tried_on 17 (ExchangeLines (OfRuleRun (Some 4294967295) (codes "c")) (block_lines (codes "a: b\nelse"))) ∷ on_line 21 (Apply (ChangeValue (One None) (codes "F") (edits.Append []))) ∷ tried_on 22 (AddRecipe None (codes "c") (At 1) (codes "a # b")) ∷ Chain (edit_on 23 (AddRecipe (Some 1) (codes "c") (At 2) (codes " a"))) (edit_on 24 (EachLine (ChangeEach (codes "X") (edits.ReplaceWord (codes "b") (codes "\\#"))))) [] ∷ [], ends (Refused 1) (codes "1: refused 21 Misread\n") None) ∷  -- further-run-191
    (true, 100, codes "c d: a $(w a) b\n\n", Chain (edit_on 1 (ExchangeLines (OfRun None (block_lines [])) (block_lines (codes "c d: a $(w a) b\n")))) (edit_on 6 (AddLine (AfterRule None (codes "d")) (NewRule (codes "c") Double (codes "a b")))) ((edit_on 8 (AddRecipe None (codes "d") (At 1) (codes "say \"q\""))) ∷ []) ∷ Chain (edit_on 9 (AddRecipe (Some 0) (codes "d") (At 1) (codes "ifdef Q"))) (edit_on 10 (AddLine Top (NewRule (codes "d") Single (codes "a b")))) [] ∷ on_line 11 Undo ∷ Chain (edit_on 12 (SetRecipe (Some 0) (codes "d") (ByText (codes ">a")) (codes "true"))) (edit_on 14 (RemoveLines (OfRecipe None (codes "c") (ByText (codes "\ttrue"))))) ((edit_on 15 (ExchangeLines (OfRun None (block_lines [])) (block_lines []))) ∷ (edit_on 16 (ExchangeLines (AtPlace (AfterRule (Some 1) (codes "c"))) (block_lines (codes "c: d\n\tcp $< $@")))) ∷ []) ∷ on_line 20 (Apply (AddLine (BeforeRule None (codes "c")) (NewAssign (codes "CC") Conditional (codes "\\#")))) ∷ on_line 21 (Apply (EachLine (ChangeEach (codes "CC") (edits.Substitute (codes "\\#") [])))) ∷ on_line 22 (Apply (ChangePrereqs None (codes "d") (ReplacePrereq (codes "b") (codes "$(s\\)")))) ∷ on_line 23 (Apply (ExchangeLines (OfRun (Some 1) (block_lines (codes "c d: a $(w a) $(s\\)"))) (block_lines (codes "\t# n\n\tababa aaa")))) ∷ [], ends Done [] (Some (codes "CC ?= \n\t# n\n\tababa aaa\n\n"))) ∷  -- further-run-192
    (false, 100, codes "\t\ndefine D\nendef\ndefine D\n-include b.mk\n", on_line 1 (Apply (ExchangeLines (OfRun (Some 2) (block_lines (codes "define D"))) [])) ∷ on_line 2 (Apply (AddLine Bottom (NewRule (codes "${c}") Double (codes "$x")))) ∷ [], ends (Refused 1) (codes "1: refused 21 Misread\n") None) ∷  -- further-run-193
    (true, 100, codes "#>X = 1\nc: ; true\n\ta\\\n b\n \n\ta # b\na: b\nF\\\n?= -g # a \\\\\n\t \n#X: = 1\n", on_line 1 (Apply (RemoveLines (OfRecipe None (codes "a") (ByText (codes "t"))))) ∷ on_line 2 End ∷ on_line 3 Begin ∷ [], ends (Refused 2) (codes "1: refused 6 Absent\n2: refused 19 NoGroup\n") (Some (codes "#>X = 1\nc: ; true\n\ta\\\n b\n \n\ta # b\na: b\nF\\\n?= -g # a \\\\\n\t \n#X: = 1\n"))) ∷  -- further-run-194
    (false, 100, codes "  # a.b += x \\\n  y\nifdef A", Chain (edit_on 1 (ChangeValue (One None) (codes "X") (edits.Add (codes "-g")))) (edit_on 3 (SwitchLine Uncomment (Some 0) (codes "a.b"))) ((edit_on 5 (ChangePrereqs None (codes "${g(}") (AddPrereq false (codes "${c}")))) ∷ (edit_on 7 (ExchangeLines (OfRun None (block_lines (codes "  # a.b += x \\\n  y"))) (block_lines (codes "ifneq (x,)\n  # a.b += x \\\n  y\nendif")))) ∷ []) ∷ on_line 16 (Apply (AddLine Top (NewAssign (codes "X") Recursive []))) ∷ [], ends Done [] (Some (codes "X =\nifneq (x,)\n  # a.b += x \\\n  y\nendif\nifdef A"))) ∷  -- further-run-195
    (true, 2, codes ".RECIPEPREFIX = >\na: a ; true\nexport F := x$(a  b)\nc d: \n\n", on_line 1 (Apply (ChangeLine None (codes "F") (edits.Substitute (codes "  ") (codes "yy")))) ∷ on_line 2 (Apply (ChangeValue Every (codes "F") (edits.Set (codes "$(A -g) -g")))) ∷ Chain (edit_on 3 (SetRecipe None (codes "c") (ByText (codes ">a")) (codes "# n"))) (edit_on 4 (ChangeLine (Some 4294967295) (codes "F") (edits.InsertWord Before (codes "$(A -g)") (codes "x.c")))) ((edit_on 5 (ExchangeLines (OfRun None (block_lines (codes "X = 1\nzz"))) (block_lines (codes "F = aaa aaaa # aa\nendef")))) ∷ (edit_on 12 (ChangeLine None (codes "F") (edits.InsertWord Before (codes "$(A -g)") (codes "-O3")))) ∷ []) ∷ on_line 13 (Apply (EachLine (ChangeEach (codes "F") (edits.SetOperator Simple)))) ∷ on_line 14 (Apply (ChangeValue (One None) (codes "F") (edits.SetIf (codes "<<E") (codes "a")))) ∷ Chain (edit_on 15 (ExchangeLines (OfRuleRun None (codes "q")) [])) (edit_on 17 (ChangeValue Every (codes "F") (edits.SetIf (codes "$(A -g) -g") (codes "; x=1")))) [] ∷ tried_on 18 (AddLine (BeforeRule (Some 1) (codes "c")) (NewAssign (codes "X") Shell (codes "x=1"))) ∷ Chain (edit_on 19 (ExchangeLines (AtPlace (BeforeVar None (codes "F"))) (block_lines (codes "c: d\n\tcp $< $@")))) (edit_on 23 (ExchangeLines (AtPlace Top) (block_lines (codes "F = aaa aaaa # aa\nendef\n-include b.mk")))) [] ∷ tried_on 28 (AddRecipe None (codes "a") (At 1) (codes "ifdef Q")) ∷ [], ends (Refused 1) (codes "14: refused 6 Absent\n") (Some (codes ".RECIPEPREFIX = >\na: a ; true\n>ifdef Q\nc: d\n\tcp $< $@\nexport F := ; x=1\nX != x=1\nc d: \n\n"))) ∷  -- further-run-196
    (false, 100, codes "define D\ninclude a.mk\na: b\nendef\\", tried_on 1 (ChangeValue (One None) (codes "X") (edits.Add (codes "$(a b)"))) ∷ on_line 2 (Apply (ExchangeLines (OfRun (Some 1) (block_lines (codes "include a.mk"))) (block_lines (codes "include b.mk")))) ∷ on_line 3 (Apply (AddLine (AfterRule None (codes "c")) (NewRule (codes "d") Double (codes "a")))) ∷ on_line 4 (Apply (AddRecipe None (codes "c") (At 0) (codes "t"))) ∷ on_line 5 (Apply (ExchangeLines (OfRun None (block_lines (codes "include b.mk\na: b"))) [])) ∷ tried_on 9 (ExchangeLines (AtPlace (AfterRule None (codes "c"))) (block_lines (codes "F = a \\\n  b"))) ∷ [], ends (Refused 1) (codes "3: refused 4 NoSuch\n") None) ∷  -- further-run-197
    (true, 100, codes "c: $(w a) a\\\n x.o\n\tcc -s y; cc -s z\nendif\nF = aaa aaaa # aa\nF = a \\\n\ttrue\ni: x.o b b&", on_line 1 (Apply (AddRecipe None (codes "i") (At 1) (codes "# n"))) ∷ on_line 2 Undo ∷ on_line 3 (Apply (ChangeValue (One (Some 0)) (codes "F") (edits.SetIf (codes "aaa aaaa") []))) ∷ [], ends (Refused 1) (codes "3: refused 4 NoSuch\n") (Some (codes "c: $(w a) a\\\n x.o\n\tcc -s y; cc -s z\nendif\nF = aaa aaaa # aa\nF = a \\\n\ttrue\ni: x.o b b&"))) ∷  -- further-run-198
    (false, 100, codes "F\\\n= $(a\tb) a \\\n    -g\\\n\t#\nc d: \\\n x.o\n\ttrue\n \nifdef A\nF += -g \\\r\n a a\nelse\nF= ; a  $(A -g) \nendif\nc: b a | b\n\ttrue\n\tcc -s y; cc -s z\n# c", on_line 1 Begin ∷ on_line 2 Undo ∷ [], ends (Refused 1) (codes "2: refused 18 GroupOpen\n") None) ∷  -- further-run-199
    (true, 100, codes "b :\\\n\\\n$x\\\n\t:a&b \\\nt %.c | \nF ?= a:b  b -g $$ ;# c\n", tried_on 1 (EachLine (SubstValues (codes ";") (codes " "))) ∷ on_line 2 Undo ∷ on_line 3 Redo ∷ [], ends Done [] (Some (codes "b :\\\n\\\n$x\\\n\t:a&b \\\nt %.c | \nF ?= a:b  b -g $$  # c\n"))) ∷  -- further-run-200
    (false, 2, codes "F = a \ndefine D \\\n e\n\na: b\nendef\nifdef A\nF =\\\n\\\n$x a -g a:b#\nelse\na.b\\\n=  # a \\\\\nendif\nifdef A\nX = a -O2\\\n a \nelse\nF\\\n= a\\ \t-g -g x=1\\\n\\\nb# a \\\\\nendif\nX = b# \\\n d\nc:\nifdef A\n\ta\nendif\nF = a\n", on_line 1 (Apply (ChangeValue (One (Some 1)) (codes "F") (edits.Append (codes "-g")))) ∷ on_line 2 (Apply (RemoveLines (OfRule None (codes "c")))) ∷ on_line 3 Redo ∷ on_line 4 (Apply (EachLine (SubstValues (codes "a") []))) ∷ on_line 5 (Apply (EachLine (ChangeEach (codes "F") (edits.Substitute (codes " ") (codes "$$"))))) ∷ on_line 6 Undo ∷ [], ends (Refused 1) (codes "2: refused 10 Straddles\n") None) ∷  -- further-run-201
    (true, 100, codes ".RECIPEPREFIX = >\r\na:  ; true\r\n\tfor f in x; do \\\r\n\t  cc $$f; \\\r\n\tdone\r\nifdef A\r\n# export F = a\r\nc: b& x.o x.o ; true\r\nifdef A\r\n\tcc -s x\r\n\tcc -s y; cc -s z\\\n", on_line 1 (Apply (ExchangeLines (AtPlace Top) (block_lines (codes "<<E")))) ∷ on_line 2 (Apply (SwitchLine Uncomment None (codes "F"))) ∷ on_line 3 (Apply (ExchangeLines (OfRun None (block_lines (codes "c: b& x.o x.o ; true"))) (block_lines []))) ∷ Chain (edit_on 4 (ExchangeLines (OfRuleRun (Some 2) (codes "a")) (block_lines (codes "a:\n# n\n")))) (edit_on 10 (ExchangeLines (OfRuleRun (Some 1) (codes "a")) (block_lines (codes "a:\n\ttrue")))) [] ∷ on_line 14 (Apply (ExchangeLines (AtPlace (AfterLastVar (codes "F"))) (block_lines (codes "G = 1")))) ∷ on_line 17 (Apply (ExchangeLines (OfRun None (block_lines (codes "\tcc -s x"))) (block_lines (codes "else\nF += a\n\tcc -s x")))) ∷ on_line 24 (Apply (ChangeLine (Some 1) (codes "G") (edits.Substitute (codes "1") (codes "x")))) ∷ tried_on 25 (EachLine (ChangeEach (codes "F") (edits.Prepend (codes "${c}")))) ∷ on_line 26 (Apply (ExchangeLines (OfRun None (block_lines (codes "F += ${c} a\n\tcc -s x"))) [])) ∷ [], ends Done [] (Some (codes "<<E\r\n.RECIPEPREFIX = >\r\na:\r\n\ttrue\r\n\tfor f in x; do \\\r\n\t  cc $$f; \\\r\n\tdone\r\nifdef A\r\nexport F = ${c} a\r\nG = x\r\n\r\nifdef A\r\nelse\r\n\tcc -s y; cc -s z\\\n"))) ∷  -- further-run-202
    (true, 100, codes "i: x.o b&\\\n x.o\n\ta\\\r\n\tb\nX ::=-g\noverride= =\noverride F::= a $(a b) \\\na\\ \t\nF\\\n= a a\nd: ; true\n\tx \\ y\nelse ", on_line 1 (Apply (ChangeLine (Some 1) (codes "F") (edits.SetOperator PosixSimple))) ∷ on_line 2 (Apply (ChangePrereqs None (codes "i") (ReplacePrereq (codes "x.o") (codes "%.c")))) ∷ Chain (edit_on 3 (ChangeValue (One None) (codes "a.b") (edits.Set []))) (edit_on 5 (ChangeValue (One (Some 4294967295)) (codes "override") (edits.Remove (codes "=")))) ((edit_on 7 (EachLine (SubstRecipe (Some 4294967295) (codes "d") (codes "\\") (codes "x")))) ∷ (edit_on 8 (ChangeValue Every (codes "F") (edits.Append (codes "$(t -g) \\\\a")))) ∷ []) ∷ on_line 9 (Apply (ExchangeLines (AtPlace (AfterLastVar (codes "F"))) (block_lines (codes "G = 1")))) ∷ on_line 12 (Apply (ChangeValue (One (Some 1)) (codes "F") (edits.Set []))) ∷ [], ends Done [] (Some (codes "i: %.c b&\\\n %.c\n\ta\\\r\n\tb\nX ::=-g\noverride= =\noverride F::= \nF\\\n= a a $(t -g) \\\\a\nG = 1\nd: ; true\n\tx \\ y\nelse "))) ∷  -- further-run-204
    (false, 100, codes "i:  | b\r\nc d:  ; true\r\n\r\n\tcc -s \\\r\n>y\r\n\tfor f in x; do \\\r\n\t  cc $$f; \\\r\n\tdone\r\nc::\r\nifdef A\r\n\ta\r\nendif\r\n\r\n\tb\r\nc: a\r\n\r\n", on_line 1 Redo ∷ Chain (edit_on 2 (RemoveLines (OfRecipe None (codes "d") (ByText (codes "true"))))) (edit_on 4 (AddLine (AfterLastVar (codes "a.b")) (NewAssign (codes "t") Immediate (codes "a b x$(a  b)")))) ((edit_on 6 (ExchangeLines (AfterRun None (block_lines (codes "\tdone"))) (block_lines (codes "ifdef A\nendif")))) ∷ (edit_on 10 (ExchangeLines (OfRun None (block_lines (codes "i:  | b"))) [])) ∷ []) ∷ on_line 13 (Apply (ExchangeLines (OfRun None (block_lines (codes "\ta"))) (block_lines (codes "# n\na: b\n  b")))) ∷ on_line 20 Undo ∷ on_line 21 (Apply (ChangePrereqs (Some 2) (codes "c") (AddPrereq false (codes "t")))) ∷ Chain (edit_on 22 (RemoveLines (OfAssign None (codes "F")))) (edit_on 24 (ExchangeLines (OfRun None (block_lines (codes "c d:  ; true\n"))) (block_lines (codes "define W\nc d:  ; true\n\nendef")))) [] ∷ on_line 33 (Apply (ExchangeLines (OfRun None (block_lines (codes "endif"))) (block_lines (codes "endif")))) ∷ on_line 34 Undo ∷ [], ends (Refused 1) (codes "1: refused 17 NothingToRedo\n") None) ∷  -- further-run-205
    (true, 2, codes "a.b != b -g -g\n\n", on_line 1 (Apply (ExchangeLines (OfRun None (block_lines (codes "a.b != b -g -g"))) (block_lines (codes "a.b != b -g -g\nendef")))) ∷ on_line 5 (Apply (ChangeValue Every (codes "a.b") (edits.SetIf (codes "b -g -g") (codes "$\\x $ b")))) ∷ on_line 6 (Apply (EachLine (SubstValues (codes "$\\x") (codes "-O3")))) ∷ on_line 7 Begin ∷ tried_on 8 (ExchangeLines (AtPlace (AfterRule None (codes "d"))) (block_lines (codes "x \\\n"))) ∷ tried_on 12 (SwitchLine CommentOut None (codes "F")) ∷ tried_on 13 (AddLine (AfterRule None (codes "c")) (NewRule (codes "c") Double (codes "a"))) ∷ [], ends Done [] (Some (codes "a.b != -O3 $ b\nendef\n\n"))) ∷  -- further-run-206
    (false, 100, codes "c::\nifdef A\n\ta\nendif\n#export = 1\n\tcc -s x\ndefine D \\\n e\n  b\n$(call t,x)\nendef\n", on_line 1 (Apply (EachLine (SubstRecipe None (codes "c") (codes "cc") (codes "$(y)")))) ∷ on_line 2 (Apply (AddLine Bottom (NewAssign (codes "t") Conditional (codes "$(w a)")))) ∷ on_line 3 (Apply (ExchangeLines (BeforeRun (Some 1) (block_lines (codes "ifdef A\n\ta"))) (block_lines (codes "# a \\\n b")))) ∷ on_line 10 (Apply (RemoveLines (OfRecipe (Some 1) (codes "c") (ByText (codes "$(y) -s x"))))) ∷ on_line 11 (Apply (ChangeValue (One None) (codes "t") (edits.SetIf (codes "$(w a)") (codes "= a")))) ∷ [], ends Done [] (Some (codes "c::\n# a \\\n b\nifdef A\n\ta\nendif\n#export = 1\ndefine D \\\n e\n  b\n$(call t,x)\nendef\nt ?= = a\n"))) ∷  -- further-run-207
    (true, 100, codes "ifdef A\nX !=\\\\#\nendif\n\n-include2 \t$(q:;=|) &:a.b:=\n", on_line 1 (Apply (ChangeLine None (codes "X") (edits.ReplaceWord (codes "\\\\") (codes "\\\\a a$ b")))) ∷ on_line 2 (Apply (EachLine (ChangeEach (codes "X") (edits.Prepend (codes "-g"))))) ∷ on_line 3 (Apply (ChangeLine None (codes "X") (edits.Substitute (codes " \\\\") (codes "x")))) ∷ on_line 4 (Apply (ExchangeLines (OfRun None (block_lines [])) (block_lines (codes "ifdef A\n\nendif")))) ∷ on_line 9 (Apply (ChangeValue Every (codes "X") (edits.Remove (codes "-gx")))) ∷ on_line 10 Undo ∷ on_line 11 Redo ∷ on_line 12 (Apply (ChangeLine None (codes "X") (edits.ReplaceWord (codes "$\\x") (codes ";")))) ∷ on_line 13 (Apply (SwitchLine CommentOut (Some 0) (codes "X"))) ∷ tried_on 14 (ChangeLine None (codes "X") (edits.InsertWord After (codes "a") (codes "$(new a)"))) ∷ [], ends (Refused 3) (codes "1: refused 1 BadArgument word\n12: refused 6 Absent\n13: refused 4 NoSuch\n") (Some (codes "ifdef A\nX !=#\nendif\nifdef A\n\nendif\n-include2 \t$(q:;=|) &:a.b:=\n"))) ∷  -- further-run-208
    (false, 2, codes "d: a | b\n\ttrue\nendif\nc: ; true\nifdef A\n\trm -rf x\n\tt\n#X = r\\\r\n s\n", on_line 1 (Apply (ExchangeLines (AtPlace Top) (block_lines (codes "E \n\tE")))) ∷ on_line 5 (Apply (ChangePrereqs None (codes "d") (ReplacePrereq (codes "a") (codes "x.o")))) ∷ on_line 6 (Apply (SwitchLine Uncomment None (codes "X"))) ∷ tried_on 7 (ExchangeLines (OfRuleRun (Some 1) (codes "c")) []) ∷ on_line 8 (Apply (ChangeLine None (codes "X") (edits.InsertWord After (codes "s") (codes "$(new a)")))) ∷ [], ends (Refused 1) (codes "7: refused 10 Straddles\n") None) ∷  -- further-run-211
    (true, 100, codes "i: a a | b\nifdef A\n# n\nc: ; true\n\ttrue\nF=\nF = a b\n", on_line 1 (Apply (ExchangeLines (AtPlace (AfterLastVar (codes "F"))) (block_lines (codes "\n")))) ∷ Chain (edit_on 5 (EachLine (ChangeEach (codes "F") (edits.Substitute (codes "b") (codes "x"))))) (edit_on 6 (ChangePrereqs None (codes "c") (ReplacePrereq (codes "$(f {)") (codes "%.o")))) ((edit_on 7 (ChangeLine (Some 2) (codes "F") (edits.Prepend (codes "-g")))) ∷ (edit_on 8 (ExchangeLines (AtPlace Bottom) (block_lines (codes "\t# n")))) ∷ []) ∷ on_line 9 (Apply (ChangeLine (Some 2) (codes "F") (edits.Substitute (codes "a") []))) ∷ on_line 10 (Apply (ChangeValue (One (Some 2)) (codes "F") (edits.Add (codes "a")))) ∷ tried_on 11 (ChangePrereqs None (codes "c") (AddPrereq true (codes "a"))) ∷ tried_on 12 (AddLine Top (NewAssign (codes "F") Simple (codes "; |"))) ∷ [], ends Done [] (Some (codes "F := ; |\ni: a a | b\nifdef A\n# n\nc: | a ; true\n\ttrue\nF=\nF =  x a\n\n\n"))) ∷  -- further-run-212
    (false, 100, codes ".RECIPEPREFIX = F\n#F \\\n= 1\nF != \\ b -g a $(a b)\na: b ; true\n\tcc -s \\\n>y\n", on_line 1 Begin ∷ on_line 2 (Apply (ExchangeLines (OfRuleRun None (codes "a")) (block_lines (codes "define W\na: b ; true\nendef")))) ∷ on_line 7 (Apply (EachLine (ChangeEach (codes "F") (edits.SetOperator Immediate)))) ∷ on_line 8 (Apply (ChangeLine None (codes "F") (edits.Prepend (codes "x=1 $(s (b) a)")))) ∷ tried_on 9 (ChangeValue (One None) (codes "F") (edits.SetIf (codes "x=1 $(s (b) a) \\ b -g a $(a b)") (codes "-O2"))) ∷ on_line 10 (Apply (ChangeValue (One None) (codes "F") (edits.Remove (codes "-O2")))) ∷ on_line 11 (Apply (SwitchLine CommentOut None (codes "F"))) ∷ on_line 12 (Apply (ExchangeLines (AtPlace Top) (block_lines (codes ".RECIPEPREFIX = F")))) ∷ tried_on 13 (ChangeLine (Some 1) (codes "F") (edits.InsertWord After (codes "-g") (codes "x.c"))) ∷ on_line 14 (Apply (SwitchLine Uncomment None (codes "F"))) ∷ [], ends (Refused 1) (codes "12: refused 7 Already\n") None) ∷  -- further-run-213
    (true, 100, codes "i: b x.o a ; true\r\n\tcc -s x\n\tfor f in x; do \\\n\t  cc $$f; \\\n\tdone\nendif\nifdef A\nF != =\\\n\t=\nelse\nX::= a a:b b \nendif\n# private Y=c\nX = \nX += \nX = a\nF = b $(s (b) a)  | ", on_line 1 (Apply (ChangeLine (Some 4) (codes "X") (edits.Substitute (codes "a") []))) ∷ on_line 2 (Apply (RemoveLines (OfRecipe None (codes "c") (ByText (codes "a"))))) ∷ on_line 3 (Apply (ExchangeLines (OfRuleRun None (codes "i")) (block_lines (codes "ifdef A\nX = 1\nendif")))) ∷ [], ends (Refused 1) (codes "2: refused 4 NoSuch\n") (Some (codes "ifdef A\nX = 1\nendif\nendif\nifdef A\nF != =\\\n\t=\nelse\nX::= a a:b b \nendif\n# private Y=c\nX = \nX += \nX = \nF = b $(s (b) a)  | "))) ∷  -- further-run-214
    (false, 100, codes "c: ; true\ndefine D\na\\b: c\n\tdone\ndefine E\nX\nendef\nendef\nc::\n\ta a\nc: a | b\n\ta\nifdef A\n\tb\nX = 1\nendif\r", Chain (edit_on 1 (ChangeLine None (codes "X") (edits.InsertWord After (codes "1") (codes "1")))) (edit_on 2 (ChangeLine None (codes "X") (edits.InsertWord After (codes "1") (codes "$(new a)")))) [] ∷ tried_on 3 (ChangePrereqs (Some 2) (codes "c") (ReplacePrereq (codes "$(p #)") (codes "$(q:;=|)"))) ∷ Chain (edit_on 4 (RemoveLines (OfAssign None (codes "F")))) (edit_on 5 (ChangeLine (Some 0) (codes "X") (edits.Substitute (codes "1") []))) [] ∷ [], ends (Refused 1) (codes "5: refused 4 NoSuch\n") None) ∷  -- further-run-215
    (true, 2, codes "override X\\\n!= -g a \\\n    b |\na.b += -g\na.b=-g\n#X ?= $(x) # n\n", tried_on 1 (ChangeLine None (codes "X") (edits.SetOperator Simple)) ∷ on_line 2 (Apply (ExchangeLines (OfRun None (block_lines (codes "a.b=-g\n#X ?= $(x) # n"))) [])) ∷ tried_on 6 (ChangeValue (One None) (codes "a.b") (edits.Remove (codes "-g"))) ∷ Chain (edit_on 7 (SetRecipe None (codes "c") (ByText (codes " a")) (codes "true"))) (edit_on 8 (SwitchLine Uncomment None (codes "Q"))) ((edit_on 9 (ChangeValue (One None) (codes "a.b") (edits.SetIf [] (codes "$x")))) ∷ []) ∷ on_line 10 (Apply (ChangeValue (One None) (codes "a.b") (edits.SetIf (codes "$x") []))) ∷ Chain (edit_on 11 (ChangeLine None (codes "override") (edits.Substitute (codes "zz") (codes "x=1")))) (edit_on 12 (ChangeLine (Some 0) (codes "X") (edits.Substitute (codes "|") (codes "$(y)")))) ((edit_on 14 (ChangeValue (One None) (codes "X") (edits.Add (codes "a")))) ∷ (edit_on 16 (ExchangeLines (OfRun None (block_lines (codes "a.b += "))) (block_lines (codes "ifdef A\na.b += \nendif")))) ∷ []) ∷ Chain (edit_on 21 (ExchangeLines (AtPlace (AfterRule None (codes "c"))) (block_lines (codes "X = 1\n")))) (edit_on 26 (ExchangeLines (OfRun None (block_lines (codes "override X\\\n:= -g a \\\n    b |"))) [])) [] ∷ on_line 31 (Apply (ChangeValue (One None) (codes "a.b") (edits.SetIf [] []))) ∷ on_line 32 (Apply (ExchangeLines (OfRun (Some 1) (block_lines (codes "a.b += "))) (block_lines []))) ∷ [], ends Done [] (Some (codes "\n"))) ∷  -- further-run-216
    (false, 100, codes "override += a b\noverride=a b\nc: b $(w a) ; true\n\tfor f in x; do \\\n\t  cc $$f; \\\n\tdone\n\ttrue\n", tried_on 1 (RemoveLines (OfAssign None (codes "F"))) ∷ tried_on 2 (ExchangeLines (OfRuleRun (Some 2) (codes "c")) (block_lines (codes "c:\n\ta \\\n\tb"))) ∷ tried_on 7 (AddRecipe None (codes "c") (At 4) (codes "b")) ∷ on_line 8 (Apply (ChangePrereqs None (codes "c") (ReplacePrereq (codes "b") (codes "a")))) ∷ on_line 9 (Apply (EachLine (SubstValues (codes "\\") []))) ∷ [], ends (Refused 1) (codes "9: refused 6 Absent\n") None) ∷  -- further-run-217
    (true, 100, codes "# F=-g b\r\nF += $x a a\\\r\n b#-g\r\nc d: b& b&\r\nifdef A\r\n#X = r\\\r\n s\r\nexport override != b\\\r\n\\#\r\n", on_line 1 (Apply (AddRecipe None (codes "d") (At 1) (codes "a # b"))) ∷ on_line 2 (Apply (ChangeLine None (codes "F") (edits.SetOperator Simple))) ∷ on_line 3 Undo ∷ Chain (edit_on 4 (ExchangeLines (OfRuleRun None (codes "d")) [])) (edit_on 6 (AddRecipe None (codes "d") (At 1) (codes ">a"))) [] ∷ [], ends (Refused 1) (codes "4: refused 9 SharedRule 2\n") (Some (codes "# F=-g b\r\nF += $x a a\\\r\n b#-g\r\nc d: b& b&\r\n\ta # b\r\nifdef A\r\n#X = r\\\r\n s\r\nexport override != b\\\r\n\\#\r\n"))) ∷  -- further-run-218
    (false, 100, codes ".RECIPEPREFIX = X\nc: a | b\n\trm -rf x\n\ttrue\n\ta # b\noverride=a\\\n\t-g $$\\\n\\\nx$(a  b) |\noverride = a b\nF\\\n:= -g $(s (b) a)\nifdef A\nF\\\n= -O2 \nendif\nc: a a ; true\n\tcc -s x\n\tcc -s y; cc -s z\nifdef A\nX := | b \nelse\nX= $\\\\\n\ta # a \\\\\nendif\n", on_line 1 (Apply (ChangeLine (Some 1) (codes "override") (edits.InsertWord Before (codes "a") (codes "$(new a)")))) ∷ on_line 2 (Apply (EachLine (SubstValues (codes "$(new a)") []))) ∷ on_line 3 Undo ∷ [], ends Done [] (Some (codes ".RECIPEPREFIX = X\nc: a | b\n\trm -rf x\n\ttrue\n\ta # b\noverride=$(new a)\\\n\ta\\\n\t-g $$\\\n\\\nx$(a  b) |\noverride = a b\nF\\\n:= -g $(s (b) a)\nifdef A\nF\\\n= -O2 \nendif\nc: a a ; true\n\tcc -s x\n\tcc -s y; cc -s z\nifdef A\nX := | b \nelse\nX= $\\\\\n\ta # a \\\\\nendif\n"))) ∷  -- further-run-219
    (true, 100, codes "F += -O2\nF = -g\nifdef A\nX :=-O2 a:b \\\r\n \nelse\noverride= -g a# c\nendif\n", on_line 1 (Apply (AddLine Top (NewAssign (codes "X") Recursive (codes "1")))) ∷ on_line 2 (Apply (ChangeLine (Some 1) (codes "F") (edits.ReplaceWord (codes "-O2") (codes "-g")))) ∷ on_line 3 Undo ∷ on_line 4 (Apply (EachLine (SubstValues (codes "cc") []))) ∷ tried_on 5 (ExchangeLines (OfRun None (block_lines (codes "set X 1"))) []) ∷ tried_on 8 (ChangeLine None (codes "override") (edits.SetOperator Shell)) ∷ on_line 9 (Apply (ExchangeLines (AtPlace Top) (block_lines (codes "<<E!")))) ∷ [], ends (Refused 1) (codes "4: refused 6 Absent\n") (Some (codes "<<E!\nX = 1\nF += -O2\nF = -g\nifdef A\nX :=-O2 a:b \\\r\n \nelse\noverride!= -g a# c\nendif\n"))) ∷  -- further-run-220
    (false, 2, codes "override F= \nX= -g\tb \n", on_line 1 (Apply (ChangeValue (One None) (codes "F") (edits.Add (codes "a")))) ∷ on_line 2 (Apply (ChangeLine None (codes "X") (edits.SetOperator PosixSimple))) ∷ on_line 3 (Apply (RemoveLines (OfAssign (Some 1) (codes "F")))) ∷ tried_on 4 (ChangeValue Every (codes "X") (edits.Set (codes "-O2"))) ∷ [], ends Done [] (Some (codes "X::= -O2 \n"))) ∷  -- further-run-221
    (true, 100, codes "F =${c} \\\r\n -g a b \nifdef A\nX= b\nelse\nF = -g\\\n a $$\nendif\n", tried_on 1 (ChangeValue (One None) (codes "F") (edits.Add (codes "a"))) ∷ on_line 2 (Apply (ExchangeLines (OfRun None (block_lines (codes "F = -g\\\n a $$"))) [])) ∷ on_line 6 (Apply (ExchangeLines (OfRun None (block_lines (codes "X= b"))) [])) ∷ on_line 7 (Apply (ChangeLine (Some 0) (codes "F") (edits.SetOperator Shell))) ∷ [], ends (Refused 2) (codes "1: refused 5 Ambiguous 2\n7: refused 4 NoSuch\n") (Some (codes "F =${c} \\\r\n -g a b \nifdef A\nelse\nendif\n"))) ∷  -- further-run-222
    (false, 100, codes "define D\ndefine E\nX\nendef\nendef\noverride define X =\nX = 1\nendef\nc: a\nifdef A\n\ta\nendif\n\n\tb\n", on_line 1 (Apply (ExchangeLines (OfRun None (block_lines (codes "X = 1\nendef"))) [])) ∷ on_line 5 Begin ∷ on_line 6 (Apply (EachLine (SubstRecipes (codes "a") (codes "/usr")))) ∷ on_line 7 End ∷ on_line 8 Redo ∷ tried_on 9 (AddLine (AfterLastVar (codes "F")) (NewRule (codes "x.o") Double [])) ∷ Chain (edit_on 10 (ExchangeLines (OfRun None (block_lines (codes "endif\n"))) (block_lines (codes "\tcc -s x\nX = 1")))) (edit_on 17 (ChangeValue (One (Some 2)) (codes "F") (edits.Append (codes "b")))) ((edit_on 19 (ExchangeLines (OfRun (Some 0) (block_lines (codes "\t/usr"))) (block_lines (codes " /usr")))) ∷ (edit_on 25 (ExchangeLines (OfRun (Some 1) (block_lines (codes "override define X =\nX = 1"))) [])) ∷ []) ∷ on_line 29 (Apply (AddRecipe None (codes "c") (At 4294967295) (codes "rm -rf x"))) ∷ Chain (edit_on 30 (ExchangeLines (AtPlace (AfterRule (Some 4294967295) (codes "c"))) (block_lines (codes "-include b.mk\n#X = 1")))) (edit_on 34 (EachLine (SubstRecipe None (codes "c") (codes "b") (codes "-O3")))) [] ∷ [], ends (Refused 1) (codes "1: refused 21 Misread\n") None) ∷  -- further-run-223
    (true, 100, codes "#F \\\n= 1\ndefine D\nX = 1\nendef\nF= b # \\\n d\n-include b.mk\n#F::=1\nF !=a\\\\#\n", tried_on 1 (ChangeLine (Some 2) (codes "F") (edits.SetOperator PosixSimple)) ∷ tried_on 2 (SwitchLine Uncomment (Some 4294967295) (codes "F")) ∷ on_line 3 (Apply (ChangeValue (One (Some 2)) (codes "F") (edits.Set (codes "c")))) ∷ on_line 4 (Apply (AddLine (AfterLastVar (codes "F")) (NewAssign (codes "F") PosixSimple (codes "-g b")))) ∷ on_line 5 Undo ∷ [], ends Done [] (Some (codes "#F \\\n= 1\ndefine D\nX = 1\nendef\nF= b # \\\n d\n-include b.mk\n#F::=1\nF ::=c#\n"))) ∷  -- further-run-224
    (false, 100, codes "#\tX := 1\nX += a\nX=b\t|\\\n\\\n| $(t \\\n -g) b\nX=a\nF\\\n:=${c} $x a\\\n\t$(s (b) a)\\\n $ \nF += a \\\r\n a:b \nc d: x.o b& a\\\n x.o\nc: # c\nX = b \\\n$# \\\n d\n>t\n># n\n>true\n", Chain (edit_on 1 (ExchangeLines (OfRun (Some 4294967295) (block_lines (codes "F\\\n:=${c} $x a\\\n\t$(s (b) a)\\\n $ "))) (block_lines (codes ".RECIPEPREFIX = >\nendef\n\tX = 1")))) (edit_on 11 (SwitchLine CommentOut None (codes "override"))) ((edit_on 13 (ChangeLine (Some 4) (codes "X") (edits.InsertWord After (codes "b") (codes "$#")))) ∷ []) ∷ on_line 14 (Apply (ChangeValue (One None) (codes "F") (edits.SetIf (codes "<<E") (codes "a")))) ∷ on_line 15 (Apply (ExchangeLines (AtPlace (AfterLastVar (codes "F"))) (block_lines (codes "c: d\n\tcp $< $@")))) ∷ on_line 19 (Apply (ChangeValue Every (codes "F") (edits.Add (codes "$\\x")))) ∷ Chain (edit_on 20 (EachLine (SubstRecipe None (codes "c") (codes "cp") (codes "-O3")))) (edit_on 22 (RemoveLines (OfRecipe (Some 2) (codes "c") (ByNumber 2)))) [] ∷ on_line 23 (Apply (ChangePrereqs (Some 2) (codes "c") (ReplacePrereq (codes "x.o") (codes "x.o")))) ∷ on_line 24 (Apply (ChangeLine (Some 1) (codes "F") (edits.Substitute (codes "  ") (codes "x")))) ∷ on_line 25 End ∷ tried_on 26 (ChangeValue (One (Some 1)) (codes "F") (edits.Append (codes "= \0"))) ∷ on_line 27 (Apply (ExchangeLines (AtPlace (AfterVar (Some 2) (codes "X"))) (block_lines (codes "X = 1\n")))) ∷ [], ends (Refused 1) (codes "14: refused 6 Absent\n") None) ∷  -- further-run-225
    (true, 2, codes "c: b b\r\noverride F?= -O2 a$ \\\n\tb a:b b#\nc: a | b\n\ta\nifdef A\n\tb\nX = 1\nendif\n\nc c: a | b\nifeq (a,b)\n\ta # b\nifeq (a,b)", on_line 1 Begin ∷ on_line 2 (Apply (ChangeValue (One None) (codes "F") (edits.SetIf (codes "-O2 a$ b a:b b") []))) ∷ tried_on 3 (ChangeLine (Some 4294967295) (codes "X") (edits.InsertWord After (codes "1") (codes "x.c"))) ∷ tried_on 4 (AddLine (AfterRule (Some 1) (codes "c")) (NewAssign (codes "t") PosixSimple (codes "="))) ∷ on_line 5 (Apply (ChangeLine None (codes "X") (edits.InsertWord Before (codes "1") (codes "$(new a)")))) ∷ on_line 6 (Apply (EachLine (SubstValues (codes "$(new a)") (codes "-O3")))) ∷ tried_on 7 (SwitchLine CommentOut None (codes "X")) ∷ tried_on 8 (ChangeLine None (codes "t") (edits.ReplaceWord (codes "=") (codes "a -g"))) ∷ [], ends Done [] (Some (codes "c: b b\r\nt ::= a -g\r\noverride F?= #\nc: a | b\n\ta\nifdef A\n\tb\n#X = -O3 1\nendif\n\nc c: a | b\nifeq (a,b)\n\ta # b\nifeq (a,b)"))) ∷  -- further-run-226
    (false, 100, codes "F ?= ; -g |#\nexport F = -g x=1\\\n\\\n-g# \\\n d\n", tried_on 1 (RemoveLines (OfRecipe None (codes "d") (ByText (codes "a")))) ∷ on_line 2 (Apply (SwitchLine CommentOut None (codes ".RECIPEPREFIX"))) ∷ Chain (edit_on 3 (ExchangeLines (AtPlace (AfterRule None (codes "c"))) (block_lines (codes ".RECIPEPREFIX = >\na")))) (edit_on 8 (ExchangeLines (OfRun None (block_lines (codes "zz"))) (block_lines (codes "override define E\n")))) ((edit_on 14 (EachLine (ChangeEach (codes "F") (edits.Substitute (codes "-") [])))) ∷ []) ∷ on_line 15 (Apply (ExchangeLines (OfRun (Some 0) (block_lines (codes "F ?= ; g |#\nexport F = g x=1\\\n\\\ng# \\\n d"))) [])) ∷ on_line 22 (Apply (EachLine (SubstValues (codes "|") (codes "#")))) ∷ on_line 23 (Apply (ChangeValue (One (Some 2)) (codes "F") (edits.Add (codes "x=1")))) ∷ tried_on 24 (ChangeValue (One None) (codes "F") (edits.Remove (codes "g"))) ∷ on_line 25 (Apply (AddLine Bottom (NewRule (codes "d") Single (codes "a")))) ∷ on_line 26 (Apply (ChangeValue (One (Some 1)) (codes "F") (edits.Remove (codes "x=1")))) ∷ Chain (edit_on 27 (EachLine (SubstRecipe None (codes "d") (codes "a") (codes "/usr")))) (edit_on 29 (AddLine Top (NewRule (codes "c") Single (codes "a b")))) [] ∷ [], ends (Refused 1) (codes "2: refused 2 Reserved\n") None) ∷  -- further-run-227
    (true, 100, codes ".RECIPEPREFIX = >\nc d: b& a b\\\n x.o\n\tcc -s x\n\tfor f in x; do \\\n\t  cc $$f; \\\n\tdone\n\tcc -s y; cc -s z\n\t#F = t", Chain (edit_on 1 (ChangePrereqs None (codes "c") (ReplacePrereq (codes "%.o") (codes "c")))) (edit_on 2 (ChangeValue (One None) (codes "F") (edits.Add (codes "${c}")))) ((edit_on 4 (ChangeLine None (codes "override") (edits.InsertWord Before (codes "${c}") (codes "-lz")))) ∷ (edit_on 6 (ExchangeLines (OfRuleRun None (codes "c")) (block_lines (codes "c:\n\ta \\\n\tb")))) ∷ []) ∷ on_line 11 (Apply (ExchangeLines (BeforeRun None (block_lines (codes "\tfor f in x; do \\\n\t  cc $$f; \\\n\tdone\n\tcc -s y; cc -s z"))) (block_lines (codes "$(call t,x)\nF = -g")))) ∷ [], ends Done [] (Some (codes ".RECIPEPREFIX = >\nc d: b& a b\\\n x.o\n\tcc -s x\n$(call t,x)\nF = -g\n\tfor f in x; do \\\n\t  cc $$f; \\\n\tdone\n\tcc -s y; cc -s z\n\t#F = t"))) ∷  -- further-run-228
    (false, 100, codes "#X = 1\nF = aaa aaaa # aa\n\nX = 1\nc: x.o x.o | b\nifdef B\nc: a\n\ta\nifdef A\n\tb\nelse\n\ta\nendif\n\nF = a\nendif\n\t \n\tababa aaa\na: b\n ", on_line 1 (Apply (EachLine (ChangeEach (codes "X") (edits.ReplaceWord (codes "1") (codes "$(A -g) $ b"))))) ∷ tried_on 2 (EachLine (ChangeEach (codes "X") (edits.ReplaceWord (codes "$ b") (codes "-O2 a$ b")))) ∷ on_line 3 (Apply (ExchangeLines (AtPlace Bottom) (block_lines (codes "X = 1\n")))) ∷ on_line 7 (Apply (ExchangeLines (AtPlace Top) (block_lines (codes "# a \\\n b")))) ∷ on_line 11 (Apply (AddLine Bottom (NewRule (codes "c") Single (codes "a")))) ∷ on_line 12 (Apply (ChangePrereqs (Some 1) (codes "c") (ReplacePrereq (codes "x.o") (codes "$(p #)")))) ∷ [], ends Done [] (Some (codes "# a \\\n b\n#X = 1\nF = aaa aaaa # aa\n\nX = $(A -g) -O2 a$ b\nc: $(p #) $(p #) | b\nifdef B\nc: a\n\ta\nifdef A\n\tb\nelse\n\ta\nendif\n\nF = a\nendif\n\t \n\tababa aaa\na: b\n \nX = 1\n\nc: a\n"))) ∷  -- further-run-229
    (true, 100, codes "override !=  # \\\n d\nc d: $(w a) $(w a)\ndefine D\n\tababa aaa\n", on_line 1 (Apply (ChangeValue Every (codes "override") (edits.Append (codes "a \\#")))) ∷ on_line 2 (Apply (ChangeLine None (codes "override") (edits.ReplaceWord (codes "\\#") (codes "b x=1")))) ∷ [], ends Done [] (Some (codes "override !=  a b x=1# \\\n d\nc d: $(w a) $(w a)\ndefine D\n\tababa aaa\n"))) ∷  -- further-run-230
    (false, 2, codes "d: ; true\nifdef A\nelse\nF = a \\\nelse\ndefine D\nX = 1\n\tababa aaa\n-include b.mk\nendef\nc:\n\t\n\t# n\n\ttrue\n\trm -rf x\n.PHONY -include2\t&: ; \t| a&b \\\n", on_line 1 (Apply (ChangeValue (One None) (codes "F") (edits.SetIf (codes "<<E") (codes "a")))) ∷ tried_on 2 (ChangeValue Every (codes "F") (edits.SetIf (codes "$(A -g) x=1") [])) ∷ [], ends (Refused 1) (codes "1: refused 6 Absent\n") None) ∷  -- further-run-231
    (true, 100, codes "override F::= |# a \\\\\noverride define X =\nendef\nX = 1\n# n\nF = -g\n", on_line 1 (Apply (AddLine (AfterVar None (codes "X")) (NewRule (codes "c") Single []))) ∷ on_line 2 (Apply (RemoveLines (OfAssign (Some 2) (codes "F")))) ∷ tried_on 3 (ChangeValue (One None) (codes "F") (edits.SetIf (codes "b -g") (codes "a b"))) ∷ [], ends Done [] (Some (codes "override F::= |# a \\\\\noverride define X =\nendef\nX = 1\nc:\n# n\n"))) ∷  -- further-run-232
    (false, 100, codes "define D\nc: a\n", on_line 1 (Apply (ExchangeLines (OfRun None (block_lines (codes "c: a"))) (block_lines (codes "x \\\n")))) ∷ Chain (edit_on 5 (AddLine (AfterRule None (codes "d")) (NewAssign (codes "F") Simple (codes "$(t -g)")))) (edit_on 7 (ExchangeLines (OfRun None (block_lines (codes "define D"))) (block_lines (codes "X = 1\n\tcc -s x\ndefine D")))) [] ∷ tried_on 14 (ExchangeLines (BeforeRun None (block_lines (codes "define D"))) (block_lines (codes "\tababa aaa"))) ∷ on_line 15 (Apply (ChangeValue (One (Some 1)) (codes "X") (edits.Append (codes "c")))) ∷ Chain (edit_on 16 (ChangeValue (One None) (codes "X") (edits.Add (codes "$ b")))) (edit_on 17 (ExchangeLines (AtPlace Top) (block_lines (codes "# a \\\n b")))) [] ∷ on_line 21 Undo ∷ [], ends Done [] (Some (codes "X = 1 c\n\tcc -s x\n\tababa aaa\ndefine D\nx \\\n\n"))) ∷  -- further-run-233
    (true, 100, codes "F = ;\r\nF += ;\n#F::=1\ndefine D\n-include b.mk\n  b\nendef\na.b\\\n= a:b\\\n\t\\ \\\n    $ x=1\nx.o: # c\nifdef A\n", on_line 1 (Apply (EachLine (ChangeEach (codes "F") (edits.ReplaceWord (codes ";") (codes "-g"))))) ∷ tried_on 2 (ChangeLine None (codes "override") (edits.SetOperator Immediate)) ∷ on_line 3 (Apply (ExchangeLines (OfRun None (block_lines (codes "ifdef A"))) (block_lines (codes "ifneq (x,)\nifdef A\nendif")))) ∷ Chain (edit_on 8 (ExchangeLines (OfRun (Some 1) (block_lines (codes "ifneq (x,)\nifdef A"))) (block_lines (codes "ifneq (x,)\nifdef A\nx\\\n# n")))) (edit_on 18 (SwitchLine Uncomment None (codes "F"))) [] ∷ on_line 19 (Apply (ExchangeLines (OfRun None (block_lines (codes "F = -g\nF += -g\n#F::=1"))) (block_lines (codes "ifneq (x,)\nF = -g\nF += -g\n#F::=1\nendif")))) ∷ on_line 30 (Apply (ChangeLine (Some 2) (codes "F") (edits.Substitute (codes "g") []))) ∷ tried_on 31 (AddLine (AfterRule None (codes "x.o")) (NewRule (codes "c") Double [])) ∷ Chain (edit_on 32 (RemoveLines (OfRecipe None (codes "x.o") (ByText (codes "a # b"))))) (edit_on 33 (ChangeLine None (codes "a.b") (edits.InsertWord Before (codes "a") (codes "-O3")))) ((edit_on 34 (ExchangeLines (OfRuleRun (Some 0) (codes "c")) (block_lines (codes "# n")))) ∷ (edit_on 37 (ChangeLine (Some 1) (codes "F") (edits.ReplaceWord (codes "-g") (codes "${c}")))) ∷ []) ∷ on_line 38 Begin ∷ [], ends Done [] (Some (codes "ifneq (x,)\nF = -g\nF += -\n#F::=1\nendif\ndefine D\n-include b.mk\n  b\nendef\na.b\\\n= a:b\\\n\t\\ \\\n    $ x=1\nx.o: # c\nc::\nifneq (x,)\nifdef A\nx\\\n# n\nendif\n"))) ∷  -- further-run-234
    (false, 100, codes "F\\\r\n+= a -g#\r\ni: b a\r\nF =$x\\\r\n\\\r\na \\\r\n    | a\r\nF = -g\r\nendif\r\n#X = 1\r\nd: a\r\n\r\n\ttrue\r\nifdef A\r\n", tried_on 1 (AddLine Bottom (NewRule (codes "x.o") Single [])) ∷ on_line 2 (Apply (AddRecipe None (codes "d") (At 2) (codes "a"))) ∷ [], ends Done [] (Some (codes "F\\\r\n+= a -g#\r\ni: b a\r\nF =$x\\\r\n\\\r\na \\\r\n    | a\r\nF = -g\r\nendif\r\n#X = 1\r\nd: a\r\n\r\n\ttrue\r\n\ta\r\nifdef A\r\nx.o:\r\n"))) ∷  -- further-run-235
    (true, 2, codes "c:\r\nifdef A\r\n\ta\r\nendif\r\n\r\n\tb\r\n", on_line 1 Redo ∷ tried_on 2 (ChangePrereqs (Some 0) (codes "c") (AddPrereq true (codes "a"))) ∷ on_line 3 (Apply (ExchangeLines (OfRuleRun None (codes "x.o")) [])) ∷ [], ends (Refused 2) (codes "1: refused 17 NothingToRedo\n3: refused 4 NoSuch\n") (Some (codes "c:\r\nifdef A\r\n\ta\r\nendif\r\n\r\n\tb\r\n"))) ∷  -- further-run-236
    (false, 100, codes "ifdef A\nF += -O2 b\nelse\nF\\\n= b \\\n \\\n $(u\\\n\nendif\n", on_line 1 (Apply (ChangeLine (Some 2) (codes "F") (edits.InsertWord After (codes "b") (codes "x.c")))) ∷ on_line 2 (Apply (EachLine (SubstValues (codes "x.c") (codes "ab")))) ∷ on_line 3 Undo ∷ [], ends Done [] (Some (codes "ifdef A\nF += -O2 b\nelse\nF\\\n= b \\\n \\\n x.c \\\n \\\n $(u\\\n\nendif\n"))) ∷  -- further-run-237
    (true, 100, codes "c: a | b\n\ta\nifdef A\n\tb\nX = 1\nendif\nc:\nifdef A\n\ta\nendif\nF = a\nF= -g -g \\\n \\\n a$\\ $(A -g)# \\\n d\n# F is on", tried_on 1 (RemoveLines (OfAssign (Some 2) (codes "F"))) ∷ on_line 2 End ∷ Chain (edit_on 3 (ChangeValue (One None) (codes "F") (edits.Add (codes "a")))) (edit_on 4 (EachLine (SubstValues (codes "1") (codes "ab")))) [] ∷ [], ends (Refused 1) (codes "2: refused 19 NoGroup\n") (Some (codes "c: a | b\n\ta\nifdef A\n\tb\nX = 1\nendif\nc:\nifdef A\n\ta\nendif\nF = a\n# F is on"))) ∷  -- further-run-238
    []

answers_4 : map (λ row. came_to row.0 row.1 row.2 row.3) rows_4 ≡ map (λ row. row.4) rows_4
unfolding digits
answers_4 = refl

abbrev rows_5 : List (Bool × ℕ × List ℕ × List Step × RunResult)
rows_5 =
    (true, 100, codes "define D\r\n\tdone\r\n\r\ndefine E\r\nX\r\nendef\nendef\r\ni: x.o a a | b\r\n# &\r\n\ttrue\r\nendif\r\n", Chain (edit_on 1 (SetRecipe (Some 1) (codes "i") (ByText (codes "true")) (codes "t"))) (edit_on 3 (EachLine (SubstRecipe None (codes "c") (codes " ") (codes "#")))) [] ∷ on_line 4 (Apply (RemoveLines (OfAssign None (codes "F")))) ∷ on_line 5 (Apply (EachLine (SubstRecipe None (codes "d") (codes "a") (codes "/usr")))) ∷ on_line 6 (Apply (ExchangeLines (OfRun (Some 2) (block_lines (codes "endef"))) (block_lines (codes "endef\nendef\ni: x.o a a | b")))) ∷ on_line 13 (Apply (AddRecipe None (codes "c") (At 1) (codes "rm -f x"))) ∷ on_line 14 (Apply (AddRecipe None (codes "i") (At 1) (codes "b"))) ∷ on_line 15 (Apply (ExchangeLines (OfRun None (block_lines (codes "\tdone"))) [])) ∷ on_line 16 (Apply (ExchangeLines (OfRun None (block_lines (codes "define D"))) (block_lines (codes "vpath %.c a\n\t  cc $$f; \\")))) ∷ Chain (edit_on 20 (ExchangeLines (BeforeRun None (block_lines [])) (block_lines (codes "define D\n")))) (edit_on 25 (EachLine (SubstRecipes (codes "cc") (codes "-O3")))) ((edit_on 27 (ExchangeLines (OfRuleRun None (codes "i")) (block_lines (codes "i:\n\tcc -o $@ $<\n\ttrue")))) ∷ []) ∷ [], ends (Refused 5) (codes "4: refused 4 NoSuch\n5: refused 4 NoSuch\n6: refused 7 Already\n13: refused 4 NoSuch\n16: refused 1 BadArgument block\n") (Some (codes "define D\r\n\r\ndefine E\r\nX\r\nendef\nendef\r\ni: x.o a a | b\r\n# &\r\n\tb\r\n\tt\r\nendif\r\n"))) ∷  -- further-run-240
    (false, 2, codes "c: x.o b\\\n x.o\n\ttrue\n\tcc -s \\\n>y\n\tcc -s \\\n>y\na: b\n# n\na.b= a:b -g -g", Chain (edit_on 1 (ExchangeLines (OfRuleRun (Some 0) (codes "c")) [])) (edit_on 2 (ExchangeLines (OfRun (Some 1) (block_lines (codes "a: b\n# n"))) [])) [] ∷ on_line 6 (Apply (ExchangeLines (OfRuleRun None (codes "c")) (block_lines (codes "c: x.o b\\\n x.o\n true\n cc -s \\\n>y\n cc -s \\\n>y")))) ∷ tried_on 15 (ExchangeLines (OfRun (Some 2) (block_lines (codes " cc -s \\\n>y"))) (block_lines (codes " cc -s \\\n>y\na.b= a:b -g -g"))) ∷ on_line 23 Undo ∷ on_line 24 (Apply (ChangeValue (One (Some 0)) (codes "a.b") (edits.Remove (codes "$(s (b) a)")))) ∷ on_line 25 (Apply (ExchangeLines (BeforeRun (Some 2) (block_lines (codes "\tcc -s \\\n>y"))) (block_lines (codes "\tcc -s x\nX = 1")))) ∷ Chain (edit_on 32 (ChangeLine (Some 2) (codes "a.b") (edits.Substitute (codes "zz") (codes "ab")))) (edit_on 33 (ChangeLine None (codes "a.b") (edits.ReplaceWord (codes "-g") (codes "a")))) ((edit_on 35 (EachLine (SubstRecipe None (codes "c") (codes "\\") (codes "a b")))) ∷ []) ∷ tried_on 36 (EachLine (ChangeEach (codes "a.b") (edits.Prepend (codes "b")))) ∷ [], ends (Refused 1) (codes "24: refused 4 NoSuch\n") None) ∷  -- further-run-241
    (true, 100, codes "override F\\\r\n=\\\r\n -g  $(a b)  \\\r\nF = -g ${v a -g\r\nF += -g ${v a -g\r\nF = -g ${v a -g\r\n", on_line 1 Redo ∷ on_line 2 (Apply (ChangeLine (Some 1) (codes "F") (edits.InsertWord After (codes "F") (codes "-lz")))) ∷ on_line 3 (Apply (ChangeValue (One (Some 1)) (codes "F") (edits.Remove (codes "-g")))) ∷ [], ends (Refused 2) (codes "1: refused 17 NothingToRedo\n3: refused 11 OpenValue\n") (Some (codes "override F\\\r\n=\\\r\n -g  $(a b)  \\\r\nF -lz = -g ${v a -g\r\nF += -g ${v a -g\r\nF = -g ${v a -g\r\n"))) ∷  -- further-run-242
    (true, 100, codes "i: b x.o\r\nF += a\r\ninclude a.mk\r\nc d: b& ; true\r\nendif\r\nc: ;\r\n>b\r\n#\t\t Y !=b\r\nF = a \\\r\n", tried_on 1 (ExchangeLines (OfRuleRun (Some 1) (codes "c")) []) ∷ on_line 2 (Apply (ChangePrereqs None (codes "d") (ReplacePrereq (codes "b&") (codes "a")))) ∷ [], ends (Refused 1) (codes "1: refused 9 SharedRule 2\n") (Some (codes "i: b x.o\r\nF += a\r\ninclude a.mk\r\nc d: a ; true\r\nendif\r\nc: ;\r\n>b\r\n#\t\t Y !=b\r\nF = a \\\r\n"))) ∷  -- further-run-244
    (false, 100, codes "ifdef A\nX = $x\nelse\nX::= b  x$(a  b)# \\\n d\nendif\n.RECIPEPREFIX := t\na: b\nF = -g\n\n#export = 1\nX= b $\\\n\nF = -g\\\n\t$  # \\\n d", on_line 1 (Apply (ChangeValue (One (Some 2)) (codes "X") (edits.Add (codes "$ b")))) ∷ Chain (edit_on 2 (ChangeValue (One None) (codes "override") (edits.Remove (codes "a")))) (edit_on 4 (ExchangeLines (OfRun None (block_lines (codes "X= b $\\\n\nF = -g\\\n\t$  # \\\n d"))) (block_lines (codes "ifdef A\nX= b $\\\n\nF = -g\\\n\t$  # \\\n d\nendif")))) [] ∷ on_line 19 (Apply (ExchangeLines (OfRun None (block_lines (codes "a: b"))) (block_lines (codes "\tdone\n#X = 1\n\tdone")))) ∷ Chain (edit_on 24 (ChangeLine (Some 2) (codes "X") (edits.Substitute (codes "\\") (codes "\\\\")))) (edit_on 26 (SwitchLine Uncomment (Some 1) (codes "X"))) ((edit_on 27 (RemoveLines (OfRecipe None (codes "c") (ByText (codes "true"))))) ∷ (edit_on 28 (ChangeLine (Some 2) (codes "X") (edits.InsertWord After (codes "$ b") (codes "x.c")))) ∷ []) ∷ tried_on 29 (ExchangeLines (AtPlace (BeforeRule None (codes "c"))) (block_lines (codes "ifdef A\n\tx\nelse\n\ty\nendif"))) ∷ [], ends Done [] (Some (codes "ifdef A\nX = $x\nelse\nX::= b  x$(a  b) $ b# \\\n d\nendif\n.RECIPEPREFIX := t\n\tdone\n#X = 1\n\tdone\nF = -g\n\n#export = 1\nifdef A\nX= b $\\\n\nF = -g\\\n\t$  # \\\n d\nendif"))) ∷  -- further-run-245
    (true, 2, codes "a: b& b\ndefine D\nifdef A\nF\\\n::= \\# $\\ x=1 b \nelse\noverride+=\nendif", Chain (edit_on 1 (ExchangeLines (AtPlace (AfterVar None (codes "F"))) (block_lines (codes "c: d\n\tcp $< $@")))) (edit_on 5 (ExchangeLines (OfRun None (block_lines (codes "endif"))) [])) [] ∷ on_line 6 (Apply (ExchangeLines (OfRun None (block_lines (codes "ifdef A"))) (block_lines (codes "a:\nifdef A\nendif")))) ∷ on_line 13 (Apply (SetRecipe None (codes "a") (ByText (codes "true")) (codes "say \"q\""))) ∷ [], ends (Refused 1) (codes "13: refused 6 Absent\n") (Some (codes "a: b& b\ndefine D\na:\nifdef A\nendif\nF\\\n::= \\# $\\ x=1 b \nelse\noverride+=\n"))) ∷  -- further-run-246
    (false, 100, codes "F = a\\\n\\\n-g -O2# \\\n d\ndefine D\nendef", on_line 1 (Apply (ExchangeLines (OfRun None (block_lines (codes "endef"))) [])) ∷ tried_on 2 (ExchangeLines (OfRun None (block_lines (codes "define D\nendef"))) []) ∷ tried_on 6 (ChangeValue (One None) (codes "F") (edits.SetIf (codes "a -g -O2") (codes "$(a b) $\\x"))) ∷ [], ends (Refused 1) (codes "1: refused 21 Misread\n") None) ∷  -- further-run-247
    (true, 100, codes ".RECIPEPREFIX = F\n#X ?= $(x) # n\nc&: ;\n\tx \\ y\noverride = -g a:b\\\n-g $(A -g) #\nx.o::\n\ta\n\tt\n\tifdef Q\n", on_line 1 (Apply (ExchangeLines (OfRuleRun None (codes "x.o")) [])) ∷ on_line 2 (Apply (ExchangeLines (OfRun None (block_lines (codes "override = -g a:b\\\n-g $(A -g) #\n\ta"))) [])) ∷ on_line 7 Cancel ∷ Chain (edit_on 8 (EachLine (SubstValues (codes "F") (codes "yy")))) (edit_on 9 (ExchangeLines (OfRun (Some 2) (block_lines (codes "c&: ;\n\tx \\ y"))) (block_lines (codes "ifdef A")))) [] ∷ on_line 13 Redo ∷ on_line 14 Undo ∷ on_line 15 (Apply (ExchangeLines (OfRuleRun None (codes "c")) [])) ∷ Chain (edit_on 16 (ExchangeLines (OfRun None (block_lines (codes "zz"))) [])) (edit_on 19 (ChangeValue (One None) (codes "a.b") (edits.Remove (codes "$ b")))) ((edit_on 21 (ChangeLine (Some 4294967295) (codes "F") (edits.SetOperator Simple))) ∷ (edit_on 23 (ExchangeLines (AfterRun None (block_lines (codes "#X ?= $(x) # n\n\tx \\ y\noverride = -g a:b\\\n-g $(A -g) #"))) (block_lines (codes "x \\\n")))) ∷ []) ∷ on_line 32 (Apply (ChangeLine (Some 4294967295) (codes "override") (edits.ReplaceWord (codes "a:b") (codes "\\#")))) ∷ [], ends (Refused 3) (codes "7: refused 19 NoGroup\n13: refused 17 NothingToRedo\n32: refused 4 NoSuch\n") (Some (codes ".RECIPEPREFIX = F\n#X ?= $(x) # n\n\tx \\ y\noverride = -g a:b\\\n-g $(A -g) #\nx \\\n\n\ta\n\tt\n\tifdef Q\n"))) ∷  -- further-run-248
    (false, 100, codes "X= a:b # a \\\\\nc d: a\\\n x.o\n\tcc -s \\\n>y\n", on_line 1 (Apply (ChangeLine None (codes "X") (edits.Substitute (codes "a:b") (codes ")")))) ∷ on_line 2 (Apply (ExchangeLines (AtPlace (AfterRule None (codes "d"))) (block_lines (codes "# a \\\n b")))) ∷ [], ends Done [] (Some (codes "X= ) # a \\\\\nc d: a\\\n x.o\n\tcc -s \\\n>y\n# a \\\n b\n"))) ∷  -- further-run-249
    (true, 100, codes "define D\n\ttrue\n\n\tdone\nendef\n#X: = 1\n", on_line 1 (Apply (AddLine Bottom (NewRule (codes "c -include2") Double (codes "$(a b)")))) ∷ on_line 2 (Apply (ExchangeLines (AtPlace (AfterRule None (codes "-include2"))) (block_lines (codes "\n")))) ∷ tried_on 6 (ExchangeLines (AtPlace Top) (block_lines (codes "define D"))) ∷ on_line 7 (Apply (ExchangeLines (OfRun (Some 1) (block_lines [])) [])) ∷ on_line 8 (Apply (ExchangeLines (OfRun None (block_lines (codes "#X: = 1"))) [])) ∷ [], ends Done [] (Some (codes "define D\n\ttrue\n\tdone\nendef\nc -include2:: $(a b)\n\n\n"))) ∷  -- further-run-250
    (false, 2, codes "c: a\nifdef A\n\ta\nendif\n\n\tb\n\na: $(w a) b | b\n\tcc -s x\n\ttrue\n# n\nifdef A\nF= b\\\n -O2 | \nendif\n#override\texport X := b", on_line 1 (Apply (ExchangeLines (OfRuleRun None (codes "c")) [])) ∷ on_line 2 (Apply (EachLine (ChangeEach (codes "F") (edits.ReplaceWord (codes "|") (codes "b"))))) ∷ [], ends Done [] (Some (codes "\na: $(w a) b | b\n\tcc -s x\n\ttrue\n# n\nifdef A\nF= b\\\n -O2 b \nendif\n#override\texport X := b"))) ∷  -- further-run-251
    (true, 100, codes "# private Y=c\r\na.b += $\\ b $#\noverride =;\nc::\n\ta a\nF = a\nc:\n", tried_on 1 (ChangeValue (One None) (codes "F") (edits.SetIf (codes "%.c") (codes "a  b"))) ∷ Chain (edit_on 2 (ExchangeLines (AtPlace (AfterLastVar (codes "override"))) (block_lines (codes "override =;\nc::")))) (edit_on 7 (ExchangeLines (OfRuleRun None (codes "include")) [])) [] ∷ Chain (edit_on 8 (EachLine (SubstRecipe (Some 2) (codes "c") (codes "cc") (codes "yy")))) (edit_on 9 (SetRecipe (Some 2) (codes "c") (ByText (codes "t")) (codes "a # b"))) ((edit_on 11 (ExchangeLines (OfRuleRun None (codes "c")) [])) ∷ (edit_on 13 (ChangeValue (One None) (codes "a.b") (edits.Add (codes "-g")))) ∷ []) ∷ on_line 14 (Apply (ChangeValue (One None) (codes "F") (edits.SetIf (codes "a") (codes "a  b")))) ∷ on_line 15 (Apply (AddLine Top (NewAssign (codes "X") PosixSimple (codes ";")))) ∷ Chain (edit_on 16 (ChangeLine None (codes "X") (edits.InsertWord After (codes ";") (codes "-lz")))) (edit_on 18 (ExchangeLines (OfRuleRun (Some 1) (codes "c")) (block_lines (codes "F = aaa aaaa # aa")))) [] ∷ on_line 19 (Apply (ChangeLine None (codes "a.b") (edits.Substitute (codes "b") (codes "x")))) ∷ on_line 20 Begin ∷ tried_on 21 (ChangeValue Every (codes "X") (edits.Add (codes ";"))) ∷ [], ends Done [] (Some (codes "X ::= ; -lz\r\n# private Y=c\r\na.b += $\\ x $#\noverride =;\nc::\n\ta a\nF = a  b\nc:\n"))) ∷  -- further-run-252
    (false, 100, codes "\tdone\nF = \\\n \\\n -O2 \\\n    ;#\n", on_line 1 (Apply (ChangeLine None (codes "F") (edits.Substitute (codes ";") []))) ∷ on_line 2 (Apply (ChangeValue (One None) (codes "F") (edits.Remove (codes "-O2")))) ∷ Chain (edit_on 3 (ChangeLine None (codes "F") (edits.InsertWord After (codes "$ b") (codes "x.c")))) (edit_on 5 (ChangeValue (One (Some 1)) (codes "F") (edits.Set (codes "\\\\a")))) [] ∷ on_line 6 (Apply (AddLine (BeforeVar None (codes "F")) (NewRule (codes "a $(p #)") Single []))) ∷ on_line 7 (Apply (AddLine (AfterRule None (codes "$(p #)")) (NewAssign (codes "F") PosixSimple (codes "\\#")))) ∷ [], ends Done [] (Some (codes "\tdone\na $(p #):\nF ::= \\#\nF = \\\n \\\n #\n"))) ∷  -- further-run-253
    (true, 100, codes ".RECIPEPREFIX = >\n\\\n\t\n\t# x ; y : z = 1\ni: b& x.o ; true\n\ttrue\n-include b.mk\ni: \\\n x.o\n\tcc -s x\na\\b: c\n", tried_on 1 (ExchangeLines (OfRuleRun (Some 1) (codes "i")) []) ∷ Chain (edit_on 2 (ChangeLine None (codes "F") (edits.ReplaceWord (codes "-O2") (codes "x$(a  b)")))) (edit_on 4 (ExchangeLines (OfRuleRun None (codes "i")) (block_lines (codes "define W\ni: \\\n x.o\nendef")))) ((edit_on 11 (SetRecipe None (codes "i") (ByText (codes "t")) (codes "a # b"))) ∷ (edit_on 13 (AddRecipe None (codes "i") (At 1) (codes "say \"q\""))) ∷ []) ∷ on_line 14 (Apply (ExchangeLines (OfRun None (block_lines (codes "a\\b: c"))) (block_lines (codes "ifneq (x,)\na\\b: c\nendif")))) ∷ on_line 19 Undo ∷ on_line 20 (Apply (ChangeLine (Some 1) (codes "X") (edits.InsertWord After (codes "a:b") (codes "-lz")))) ∷ on_line 21 (Apply (AddLine Top (NewAssign (codes "F") Append []))) ∷ [], ends (Refused 1) (codes "20: refused 4 NoSuch\n") (Some (codes "F +=\n.RECIPEPREFIX = >\n\\\n\t\n\t# x ; y : z = 1\n\ttrue\n-include b.mk\ndefine W\ni: \\\n x.o\nendef\n\tcc -s x\na\\b: c\n"))) ∷  -- further-run-254
    (false, 100, codes "#\tX := 1\na : \\\n\t\nc:\nifdef A\n\ta\nendif\n\n\tb\n", on_line 1 (Apply (SwitchLine Uncomment None (codes "X"))) ∷ on_line 2 (Apply (ExchangeLines (OfRuleRun None (codes "c")) (block_lines (codes "c:\nifdef A\n\ta\nendif\n\n\tb\n\ttrue\nc: a")))) ∷ [], ends Done [] (Some (codes "X := 1\na : \\\n\t\nc:\nifdef A\n\ta\nendif\n\n\tb\n\ttrue\nc: a\n"))) ∷  -- further-run-255
    (true, 2, codes "a.b\\\n:=\\\n ; \\\n    b\t$$# a \\\\\n", on_line 1 (Apply (ChangeValue Every (codes "a.b") (edits.Remove (codes "b")))) ∷ on_line 2 (Apply (EachLine (SubstValues (codes "zz") []))) ∷ on_line 3 Undo ∷ on_line 4 (Apply (ChangeLine None (codes "a.b") (edits.InsertWord After (codes ";") (codes "x.c")))) ∷ on_line 5 Undo ∷ on_line 6 (Apply (ExchangeLines (OfRun None (block_lines (codes "X = 1\nzz"))) (block_lines (codes "F += a")))) ∷ on_line 10 (Apply (ChangeValue (One None) (codes "a.b") (edits.SetIf (codes "$(t -g) $(s (b) a)") (codes "$(w a)")))) ∷ tried_on 11 (ExchangeLines (OfRun None (block_lines (codes "a.b\\\n:=\\\n ; \\\n    b\t$$# a \\\\"))) []) ∷ tried_on 17 (ExchangeLines (AfterRun None (block_lines (codes "X"))) (block_lines (codes "x\\\n#X = 1"))) ∷ on_line 21 End ∷ [], ends (Refused 4) (codes "2: refused 6 Absent\n6: refused 4 NoSuch\n10: refused 6 Absent\n21: refused 19 NoGroup\n") (Some [])) ∷  -- further-run-256
    (true, 100, codes ".RECIPEPREFIX = >\n#F = a\nifdef A\nF ::= |\\\n ;\\\n\t|\nelse\nX ?= ; a $ -g\nendif\noverride define X =\n\tababa aaa\nendef\nX = b\t$(w \\\n a) \\\n \\\n -g\nX = b\t$(w \\\n a) \\\n \\\n -g\nX += a b\n", tried_on 1 (ChangeLine (Some 2) (codes "X") (edits.Substitute (codes "w a) ") (codes "x=1"))) ∷ Chain (edit_on 2 (ExchangeLines (OfRun None (block_lines (codes "X = b\t$(w \\\n a) \\\n \\\n -g\nX += a b"))) (block_lines (codes "X = b\t$(w \\\n a) \\\n \\\n -g\nX += a b")))) (edit_on 16 (SwitchLine CommentOut (Some 4294967295) (codes "F"))) ((edit_on 17 (ChangeValue (One (Some 4)) (codes "X") (edits.Add (codes "a$ b")))) ∷ []) ∷ on_line 18 (Apply (ChangeLine (Some 4) (codes "X") (edits.InsertWord Before (codes "b") (codes "-lz")))) ∷ Chain (edit_on 19 (ChangeLine (Some 4) (codes "X") (edits.Substitute (codes "zz") (codes "a b")))) (edit_on 21 (ExchangeLines (OfRun None (block_lines (codes "\tdone"))) [])) ((edit_on 25 (SwitchLine Uncomment (Some 4294967295) (codes "F"))) ∷ (edit_on 26 (EachLine (ChangeEach (codes "X") (edits.SetOperator PosixSimple)))) ∷ []) ∷ on_line 27 (Apply (ChangeValue Every (codes "X") (edits.SetIf (codes "a -lz b") (codes "a\\ b")))) ∷ tried_on 28 (ChangeValue (One None) (codes "X") (edits.SetIf (codes "a\\ b") (codes "a ;"))) ∷ on_line 29 (Apply (ChangeLine None (codes "F") (edits.Substitute (codes "|") []))) ∷ Chain (edit_on 30 (SwitchLine Uncomment (Some 0) (codes "F"))) (edit_on 32 (ChangeLine (Some 2) (codes "X") (edits.Substitute (codes "cc") (codes "$\\")))) ((edit_on 34 (ChangeValue (One (Some 2)) (codes "X") (edits.Remove (codes "x=1")))) ∷ (edit_on 36 (ChangeValue (One (Some 4)) (codes "X") (edits.Remove (codes "a")))) ∷ []) ∷ [], ends Done [] (Some (codes ".RECIPEPREFIX = >\n#F = a\nifdef A\nF ::= \\\n ;\\\n\t\nelse\nX ?= ; a $ -g\nendif\noverride define X =\n\tababa aaa\nendef\nX = b\t$(x=1-g\nX = b\t$(w \\\n a) \\\n \\\n -g\nX += a ;\n"))) ∷  -- further-run-258
    (false, 100, codes ".RECIPEPREFIX = X\r\n# export F = a\r\nF\\\r\n::= = b\\\r\n ${c} x=1# \\\r\n d", on_line 1 (Apply (AddLine (AfterVar None (codes "F")) (NewRule (codes "c") Single (codes "a b")))) ∷ on_line 2 (Apply (ChangeValue (One (Some 1)) (codes "F") (edits.Remove (codes "x=1")))) ∷ on_line 3 (Apply (ExchangeLines (OfRuleRun None (codes "c")) [])) ∷ Chain (edit_on 4 (EachLine (SubstValues (codes "X") (codes "\\\\")))) (edit_on 5 (ChangeLine (Some 4294967295) (codes "F") (edits.InsertWord After (codes "${c}") (codes "x.c")))) ((edit_on 7 (ChangeLine None (codes "F") (edits.Substitute (codes " ${") (codes "}")))) ∷ []) ∷ [], ends Done [] (Some (codes ".RECIPEPREFIX = X\r\n# export F = a\r\nF\\\r\n::= = b\\\r\n ${c}# \\\r\n d\r\n"))) ∷  -- further-run-259
    (true, 100, codes "export X\\\n+= a x=1 b\n#\tX := 1\nexport F\\\n+= = \\\n$(A -g) \\\r\n -g\n", on_line 1 (Apply (ChangeValue Every (codes "F") (edits.Add (codes "a")))) ∷ on_line 2 (Apply (ChangeValue (One None) (codes "F") (edits.Add (codes "x=1")))) ∷ Chain (edit_on 3 (ChangeValue (One None) (codes "a.b") (edits.Remove (codes "$(w a)")))) (edit_on 5 (SwitchLine Uncomment None (codes "X"))) ((edit_on 7 (ChangeValue (One None) (codes "F") (edits.Append (codes "-include2")))) ∷ []) ∷ Chain (edit_on 8 (ExchangeLines (OfRun None (block_lines (codes "X := 1"))) (block_lines (codes "export X\\\n+= a x=1 b\nX := 1")))) (edit_on 15 (ChangeValue (One (Some 1)) (codes "F") (edits.Set (codes "x=1")))) [] ∷ on_line 16 (Apply (ChangeValue (One None) (codes "F") (edits.Add (codes "a\\ b")))) ∷ tried_on 17 (ExchangeLines (AtPlace (AfterVar (Some 2) (codes "X"))) (block_lines (codes "ifdef B\nifdef C\nendif\nendif"))) ∷ on_line 23 (Apply (SwitchLine CommentOut (Some 2) (codes "X"))) ∷ [], ends Done [] (Some (codes "export X\\\n+= a x=1 b\n#X := 1\nifdef B\nifdef C\nendif\nendif\nexport F\\\n+= = \\\n$(A -g) \\\r\n -g a x=1 a\\ b\n"))) ∷  -- further-run-260
    (false, 2, codes "override define X =\n\tfor f in x; do \\\ninclude a.mk\nendef\ni: \nifdef A\n\n\ta\\\r\n\tb\nc:  ; true\n\tfor f in x; do \\\n\t  cc $$f; \\\n\tdone\n\nifdef A\n", on_line 1 (Apply (ChangeValue (One None) (codes "F") (edits.Set (codes "<<E")))) ∷ on_line 2 Undo ∷ on_line 3 (Apply (ExchangeLines (OfRuleRun None (codes "i")) (block_lines (codes "i:\n# n\n")))) ∷ [], ends (Refused 1) (codes "1: refused 4 NoSuch\n") None) ∷  -- further-run-261
    (true, 100, codes "F = -g\nF = -g\n", Chain (edit_on 1 (ChangeValue Every (codes "F") (edits.Remove (codes "-g")))) (edit_on 2 (ChangeValue Every (codes "F") (edits.Append (codes "=")))) [] ∷ tried_on 3 (SwitchLine CommentOut (Some 2) (codes "F")) ∷ on_line 4 (Apply (AddLine (AfterVar None (codes "F")) (NewRule (codes "c") Single (codes "a b")))) ∷ [], ends Done [] (Some (codes "F = \nc: a b\n#F = \n"))) ∷  -- further-run-262
    (false, 100, codes "c: b& $(w a) b\r\n\ta\\\r\n\tb\n\tfor f in x; do \\\n\t  cc $$f; \\\n\tdone\n# n\nF\\\n=a\\\n a", on_line 1 (Apply (SwitchLine CommentOut None (codes "F"))) ∷ on_line 2 (Apply (ExchangeLines (OfRuleRun None (codes "c")) [])) ∷ on_line 3 (Apply (ExchangeLines (AtPlace Bottom) (block_lines (codes "F = a \\\n  b")))) ∷ [], ends Done [] (Some (codes "# n\n#F\\\n=a\\\n a\nF = a \\\n  b\n"))) ∷  -- further-run-263
    (true, 100, codes "define D\r\n\tfor f in x; do \\\nendef\nc: # c\nendif\n\t\nd: ;\nF\\\n:= -g\\\n\\\n-g  a b -g\n\t\ttrue\n \n", Chain (edit_on 1 (AddLine Top (NewAssign (codes "F") PosixSimple []))) (edit_on 3 (ExchangeLines (OfRun None (block_lines (codes "\t\ttrue"))) (block_lines (codes "ifneq (x,)\n\t\ttrue\nendif")))) [] ∷ on_line 10 (Apply (AddLine (AfterLastVar (codes "F")) (NewAssign (codes "t") PosixSimple (codes "-O2")))) ∷ on_line 11 (Apply (ChangeLine (Some 1) (codes "F") (edits.SetOperator Simple))) ∷ tried_on 12 (ExchangeLines (OfRun (Some 2) (block_lines (codes "F :="))) (block_lines (codes "F :="))) ∷ [], ends Done [] (Some (codes "F :=\r\nt ::= -O2\r\ndefine D\r\n\tfor f in x; do \\\nendef\nc: # c\nendif\n\t\nd: ;\nF\\\n:= -g\\\n\\\n-g  a b -g\n\t\ttrue\n \n"))) ∷  -- further-run-264
    (false, 100, codes "ifdef A\r\nF= \\\ta $(a\tb) -O2\\\r\n\\\r\n-g\\\r\n\\\r\n# c\r\nendif\r\n", on_line 1 (Apply (ExchangeLines (BeforeRun None (block_lines (codes "X = 1"))) (block_lines (codes "# x")))) ∷ on_line 6 (Apply (ExchangeLines (OfRun None (block_lines (codes "ifdef A\nF= \\\ta $(a\tb) -O2\\\n\\\n-g\\\n\\\n# c"))) (block_lines (codes "ifdef A\nifdef A\nF= \\\ta $(a\tb) -O2\\\n\\\n-g\\\n\\\n# c\nendif")))) ∷ tried_on 23 (ExchangeLines (OfRun None (block_lines (codes "X = 1\nzz"))) (block_lines (codes "endif"))) ∷ on_line 27 (Apply (ExchangeLines (OfRun None (block_lines (codes "a\0b"))) [])) ∷ on_line 28 (Apply (ChangeValue Every (codes "F") (edits.Set (codes "b")))) ∷ on_line 29 Redo ∷ Chain (edit_on 30 (ChangeLine None (codes "F") (edits.Prepend (codes "a")))) (edit_on 32 (SwitchLine CommentOut None (codes "X"))) ((edit_on 34 (ExchangeLines (OfRun (Some 4294967295) (block_lines (codes "ifdef A\nifdef A"))) (block_lines (codes "ifdef A\nifdef A\nifdef A\nendif")))) ∷ []) ∷ on_line 43 (Apply (AddLine Bottom (NewAssign (codes "t") PosixSimple (codes "$(a b) =")))) ∷ [], ends (Refused 1) (codes "1: refused 4 NoSuch\n") None) ∷  -- further-run-265
    (true, 2, codes "c d: b $(w a) x.o | a d\r\nendif\nF = aaa aaaa # aa\n\nc d: b\\\n x.o\n# n\n\tcc -s y; cc -s z\na: $(w a) ; true\nifdef A\nF\\\n= -g#\nelse\nF\\\n?=\\\na:b \\\\\\\n\\\n-g\nendif\n#exportF = 1\n", tried_on 1 (ChangeLine (Some 1) (codes "F") (edits.InsertWord After (codes "aaa") (codes "$x"))) ∷ on_line 2 (Apply (ChangeLine (Some 1) (codes "F") (edits.InsertWord After (codes "aaaa") (codes "x.c")))) ∷ tried_on 3 (ChangeLine (Some 2) (codes "F") (edits.SetOperator Simple)) ∷ on_line 4 (Apply (ChangeValue Every (codes "F") (edits.Append (codes "a")))) ∷ Chain (edit_on 5 (RemoveLines (OfAssign None (codes "X")))) (edit_on 7 (ExchangeLines (OfRuleRun None (codes "a")) [])) [] ∷ on_line 8 (Apply (ExchangeLines (AtPlace (AfterVar (Some 2) (codes "F"))) (block_lines (codes "c: d\n\tcp $< $@")))) ∷ on_line 12 (Apply (ChangePrereqs (Some 1) (codes "c") (ReplacePrereq (codes "a") (codes "a&b")))) ∷ on_line 13 (Apply (ChangeLine (Some 1) (codes "F") (edits.SetOperator Recursive))) ∷ [], ends Done [] (Some (codes "c d: b $(w a) x.o | a&b d\r\nendif\nF = aaa $x aaaa x.c a # aa\n\nc d: b\\\n x.o\n# n\n\tcc -s y; cc -s z\nifdef A\nF\\\n:= -g a#\nc: d\r\n\tcp $< $@\r\nelse\nF\\\n?=\\\na:b \\\\\\\n\\\n-g\nendif\n#exportF = 1\n"))) ∷  -- further-run-266
    (false, 100, codes "a: x.o $(w a) a\\\r\n x.o\r\n\ta\\\r\n\tb\r\nifdef A\r\nF = -g\r\nF += x$(a  b) a\r\na: a | a d\r\nendif\r\n\tfor f in x; do \\\r\n\t  cc $$f; \\\r\n\tdone\r\n\ta\\\r\n\tb\r\nifdef A\r\na.b = -g\\\r\n $# $(t \\\r\n -g) -O2 a:b\r\nelse\r\na.b = -g\r\nendif\r\ndefine D\r\n\tababa aaa\r\nendef\r\n", on_line 1 (Apply (ExchangeLines (AtPlace (AfterLastVar (codes "F"))) (block_lines (codes "# a \\\n b")))) ∷ on_line 5 (Apply (ChangeValue Every (codes "F") (edits.Set []))) ∷ [], ends Done [] (Some (codes "a: x.o $(w a) a\\\r\n x.o\r\n\ta\\\r\n\tb\r\nifdef A\r\nF = \r\nF += \r\n# a \\\r\n b\r\na: a | a d\r\nendif\r\n\tfor f in x; do \\\r\n\t  cc $$f; \\\r\n\tdone\r\n\ta\\\r\n\tb\r\nifdef A\r\na.b = -g\\\r\n $# $(t \\\r\n -g) -O2 a:b\r\nelse\r\na.b = -g\r\nendif\r\ndefine D\r\n\tababa aaa\r\nendef\r\n"))) ∷  -- further-run-267
    (true, 100, codes "c d: \r\nX= ; \\\n    b  a # c\n# F is on\nd:: ; true\n\t>a\n\ttrue\n\ttrue\n\tsay \"q\"\n#\tX := 1\n## F = 1\n", on_line 1 (Apply (ChangeLine None (codes "X") (edits.SetOperator Shell))) ∷ on_line 2 (Apply (ChangeLine None (codes "X") (edits.InsertWord After (codes "a") (codes "x.c")))) ∷ on_line 3 (Apply (EachLine (SubstRecipes (codes ">a") []))) ∷ on_line 4 (Apply (ChangeValue (One None) (codes "X") (edits.Remove (codes "x.c")))) ∷ Chain (edit_on 5 (ChangeValue (One None) (codes "X") (edits.SetIf (codes "; b  a") (codes "a a")))) (edit_on 6 (AddLine (AfterLastVar (codes "X")) (NewRule (codes "d") Double []))) [] ∷ Chain (edit_on 7 (ChangeValue (One None) (codes "X") (edits.SetIf [] []))) (edit_on 9 (SwitchLine CommentOut None (codes "F"))) ((edit_on 10 (AddLine (AfterRule (Some 1) (codes "d")) (NewAssign (codes "F") PosixSimple (codes "-g a")))) ∷ (edit_on 12 (EachLine (SubstValues (codes "a") (codes "/usr")))) ∷ []) ∷ [], ends Done [] (Some (codes "c d: \r\nX!= a a # c\n# F is on\nd:: ; true\n\t\n\ttrue\n\ttrue\n\tsay \"q\"\n#\tX := 1\n## F = 1\n"))) ∷  -- further-run-268
    (false, 100, codes "F=x=1\\\n \\\nF += x=1\\\n \\\nc:\nifdef A\n\ta\nendif\nF = a\nc:\n\ta\nifdef A\n\tb\nX = 1\nendif\nF = a", tried_on 1 (ChangeLine (Some 0) (codes "X") (edits.ReplaceWord (codes "1") (codes "b"))) ∷ Chain (edit_on 2 (ChangeLine (Some 1) (codes "F") (edits.Substitute (codes "a") (codes "x")))) (edit_on 4 (ExchangeLines (OfRuleRun None (codes "c")) [])) ((edit_on 5 (ChangeValue (One (Some 2)) (codes "F") (edits.SetIf (codes "a") []))) ∷ []) ∷ on_line 6 (Apply (ChangeLine (Some 1) (codes "F") (edits.Prepend (codes "a$ ")))) ∷ Chain (edit_on 7 (ExchangeLines (OfRun (Some 2) (block_lines (codes "endif\nF = a"))) (block_lines (codes "endef\ndefine D")))) (edit_on 15 (ExchangeLines (OfRun (Some 4294967295) (block_lines (codes "ifdef A\n\ta"))) [])) [] ∷ on_line 19 (Apply (ChangeValue (One None) (codes "X") (edits.Add (codes "\\\\a")))) ∷ tried_on 20 (ExchangeLines (OfRun (Some 4294967295) (block_lines (codes "\ta\nendif"))) (block_lines (codes "a: b\ndefine D\n "))) ∷ on_line 28 (Apply (ExchangeLines (OfRun (Some 2) (block_lines (codes "endif"))) (block_lines (codes "define D\nx\nendef")))) ∷ on_line 33 Undo ∷ on_line 34 (Apply (ExchangeLines (AtPlace Top) (block_lines (codes "<<E!")))) ∷ [], ends (Refused 1) (codes "6: refused 1 BadArgument value\n") None) ∷  -- further-run-269
    (true, 100, codes "#Y=\r\nifdef A\r\nexport F+= -g#\r\nendif\r\noverride\\\r\n=${c}\\\r\n\t-O2\\\r\n\t$(a b)# a \\\\\r\nc d: $(w a) $(w a)\r\n# n\r\n\ttrue\r\n# n\r\nd: # c\r\n#F::=1 ", tried_on 1 (ChangePrereqs (Some 2) (codes "d") (ReplacePrereq (codes "a&b") (codes "c"))) ∷ on_line 2 (Apply (ExchangeLines (OfRun None (block_lines (codes "# n"))) (block_lines (codes "c d: $(w a) $(w a)\n# n")))) ∷ on_line 8 (Apply (ChangeValue (One None) (codes "override") (edits.Remove (codes "x=1")))) ∷ [], ends (Refused 2) (codes "2: refused 5 Ambiguous 2\n8: refused 6 Absent\n") (Some (codes "#Y=\r\nifdef A\r\nexport F+= -g#\r\nendif\r\noverride\\\r\n=${c}\\\r\n\t-O2\\\r\n\t$(a b)# a \\\\\r\nc d: $(w a) $(w a)\r\n# n\r\n\ttrue\r\n# n\r\nd: # c\r\n#F::=1 "))) ∷  -- further-run-270
    (false, 2, codes "ifdef A\nX\\\n?= b\\\n -g  -g -g\\\n\\\n-g #-g\nendif\nX::=a:b \\\r\n -g\\\n -O2\t;\\\n$(s (b) a) \\\n    \nF = a b\nF += a b", Chain (edit_on 1 (ChangeValue (One None) (codes "X") (edits.SetIf (codes "$(A -g)") (codes "$x")))) (edit_on 2 (ExchangeLines (OfRun (Some 0) (block_lines (codes "X::=a:b \\\n -g\\\n -O2\t;\\\n$(s (b) a) \\\n    "))) (block_lines (codes "endif\n# n")))) ((edit_on 13 (ExchangeLines (OfRun None (block_lines (codes "endif"))) (block_lines (codes "\nF = -g\nF = a \\")))) ∷ (edit_on 19 (AddLine Top (NewAssign (codes "a.b") Immediate []))) ∷ []) ∷ on_line 20 (Apply (ChangeLine (Some 2) (codes "F") (edits.ReplaceWord (codes "b") (codes "-g a\\ b")))) ∷ on_line 21 (Apply (ChangeLine (Some 1) (codes "F") (edits.InsertWord After (codes "$(a b)") (codes "-O3")))) ∷ on_line 22 (Apply (ChangeLine (Some 1) (codes "X") (edits.SetOperator Append))) ∷ [], ends (Refused 1) (codes "21: refused 6 Absent\n") None) ∷  -- further-run-271
    (true, 100, codes "c: b $(w a) a\r\n\tfor f in x; do \\\r\n\t  cc $$f; \\\r\n\tdone\r\n\ta\\\r\n\tb\r\n\ttrue\r\nF += a\r\nF=-O2 \\\r\n-O2\r\nF!= -O2 ${c}\r\n", on_line 1 (Apply (ChangeValue Every (codes "F") (edits.Add (codes "$(w a)")))) ∷ tried_on 2 (ChangeLine (Some 1) (codes "F") (edits.SetOperator Append)) ∷ on_line 3 (Apply (ExchangeLines (OfRun None (block_lines (codes "\ttrue\nF += a $(w a)\nF=-O2 \\\n-O2 $(w a)"))) [])) ∷ on_line 9 (Apply (ChangeLine None (codes "F") (edits.Prepend (codes "|")))) ∷ on_line 10 (Apply (ChangePrereqs None (codes "c") (ReplacePrereq (codes "$(w a)") (codes "&")))) ∷ tried_on 11 (ChangeValue (One None) (codes "F") (edits.SetIf (codes "| -O2 ${c} $(w a)") (codes "= \\\\a"))) ∷ on_line 12 (Apply (ExchangeLines (OfRun None (block_lines (codes "\ta\\\n\tb"))) [])) ∷ on_line 16 (Apply (EachLine (SubstRecipe None (codes "c") (codes "r f i") (codes "$\\")))) ∷ [], ends Done [] (Some (codes "c: b & a\r\n\tfo$\\n x; do \\\r\n\t  cc $$f; \\\r\n\tdone\r\nF!= = \\\\a\r\n"))) ∷  -- further-run-272
    (false, 100, codes "c&: a | b\n\ttrue\n# \\\n n\nF=$x ", on_line 1 (Apply (AddLine (AfterVar None (codes "F")) (NewRule (codes "d") Double []))) ∷ on_line 2 (Apply (EachLine (SubstRecipe None (codes "c") (codes "true") (codes "/usr")))) ∷ on_line 3 (Apply (EachLine (ChangeEach (codes "F") (edits.Substitute (codes "$x") (codes "\\\\"))))) ∷ on_line 4 (Apply (ChangeLine None (codes "F") (edits.Substitute (codes "\\\\") (codes "x")))) ∷ on_line 5 Undo ∷ on_line 6 (Apply (EachLine (ChangeEach (codes "F") (edits.Substitute (codes "\\\\") [])))) ∷ Chain (edit_on 7 (ChangeLine None (codes "F") (edits.InsertWord After (codes "\\\\a") (codes "a:b")))) (edit_on 8 (ChangeValue (One None) (codes "a.b") (edits.Set (codes "$\\x")))) ((edit_on 10 (SwitchLine CommentOut None (codes "F"))) ∷ []) ∷ on_line 11 (Apply (SwitchLine CommentOut None (codes "F"))) ∷ tried_on 12 (ChangePrereqs None (codes "c") (ReplacePrereq (codes "b") (codes "%.o"))) ∷ [], ends Done [] (Some (codes "c&: a | %.o\n\t/usr\n# \\\n n\n#F= \nd::\n"))) ∷  -- further-run-273
    (true, 100, codes "c: a | b\ni: a | a d\n\tfor f in x; do \\\n\t  cc $$f; \\\n\tdone\nc:\n# n\n\ta\nF = a\nc: a | b\n# n\n\ta\n", on_line 1 (Apply (ChangePrereqs None (codes "i") (ReplacePrereq (codes "a&b") (codes "$$")))) ∷ Chain (edit_on 2 (EachLine (SubstRecipes (codes "done") []))) (edit_on 3 (ChangeLine None (codes "F") (edits.InsertWord Before (codes "a") (codes "a")))) ((edit_on 5 (ExchangeLines (OfRuleRun None (codes "i")) [])) ∷ (edit_on 6 (ExchangeLines (OfRuleRun (Some 2) (codes "c")) (block_lines (codes "c:\n# n\n")))) ∷ []) ∷ on_line 11 Undo ∷ on_line 12 (Apply (SwitchLine CommentOut None (codes "F"))) ∷ on_line 13 (Apply (ChangeValue (One None) (codes "F") (edits.SetIf (codes "<<E") (codes "a")))) ∷ on_line 14 (Apply (ExchangeLines (AfterRun None (block_lines (codes "  b"))) (block_lines (codes "c: d\n\tcp $< $@")))) ∷ on_line 18 Undo ∷ [], ends (Refused 3) (codes "1: refused 6 Absent\n13: refused 4 NoSuch\n14: refused 4 NoSuch\n") (Some (codes "c: a | b\ni: a | a d\n\tfor f in x; do \\\n\t  cc $$f; \\\n\tdone\nc:\n# n\n\ta\nF = a\nc: a | b\n# n\n\ta\n"))) ∷  -- further-run-274
    (false, 100, codes "F !=-O2 | -g x=1\\\n\t-g\n.RECIPEPREFIX = >\nF = -g  |  # c\nF\\\n= \\\na:b b\nX= -O2#-g\n", Chain (edit_on 1 (ChangeLine (Some 2) (codes "F") (edits.ReplaceWord (codes "|") (codes "a$ b")))) (edit_on 3 (EachLine (ChangeEach (codes "F") (edits.Prepend (codes "|"))))) [] ∷ on_line 4 (Apply (ExchangeLines (BeforeRun None (block_lines (codes ".RECIPEPREFIX = >\nF = -g  a$ b  # c"))) (block_lines (codes "# a \\\n b")))) ∷ on_line 11 (Apply (EachLine (ChangeEach (codes "F") (edits.Prepend (codes "$ b"))))) ∷ tried_on 12 (ChangeLine (Some 3) (codes "F") (edits.Substitute (codes "a:b") (codes "x=1"))) ∷ on_line 13 Redo ∷ on_line 14 (Apply (ExchangeLines (OfRun None (block_lines (codes ".RECIPEPREFIX = >\nF = $ b -g  a$ b  # c"))) (block_lines (codes "ifdef A\n.RECIPEPREFIX = >\nF = $ b -g  a$ b  # c\nendif")))) ∷ [], ends (Refused 1) (codes "13: refused 17 NothingToRedo\n") None) ∷  -- further-run-275
    (true, 100, codes "override X = \r\n#X = r\\\r\n s\r\nexport a.b ::= -g# \\\r\n d\r\nc d: a a | b\r\n\tcc -s \\\r\n>y\r\n#F = a\\\r\n", Chain (edit_on 1 (RemoveLines (OfRecipe (Some 2) (codes "c") (ByText (codes "true"))))) (edit_on 3 (ExchangeLines (OfRun None (block_lines (codes "\tcc -s \\\n>y"))) (block_lines (codes "\noverride define E")))) ((edit_on 11 (EachLine (ChangeEach (codes "X") (edits.Substitute (codes "cc") (codes "-O3"))))) ∷ (edit_on 13 (ChangeLine None (codes "a.b") (edits.Substitute (codes "-g") (codes "-O3")))) ∷ []) ∷ [], ends (Refused 1) (codes "3: refused 21 Misread\n") (Some (codes "override X = \r\n#X = r\\\r\n s\r\nexport a.b ::= -g# \\\r\n d\r\nc d: a a | b\r\n\tcc -s \\\r\n>y\r\n#F = a\\\r\n"))) ∷  -- further-run-278
    (false, 100, codes ".RECIPEPREFIX = X\r\nc: a\r\nifdef A\r\n\ta\r\nendif\r\n\r\nc::\r\nifdef A\r\n\ta\r\nendif\r\n#include = x\r\na\\b: c\r\n\tababa aaa\r\ndefine D\r\n", on_line 1 (Apply (ChangePrereqs (Some 1) (codes "c") (ReplacePrereq (codes "a") (codes "${c}")))) ∷ on_line 2 (Apply (ExchangeLines (AtPlace Top) (block_lines (codes "\tababa aaa")))) ∷ on_line 3 (Apply (ChangePrereqs None (codes "c") (ReplacePrereq (codes "<<E") (codes "<<F")))) ∷ on_line 4 (Apply (ExchangeLines (AfterRun (Some 2) (block_lines (codes "\ta"))) (block_lines (codes "#X = 1")))) ∷ Chain (edit_on 7 (EachLine (ChangeEach (codes "F") (edits.Substitute (codes "\\") (codes "x"))))) (edit_on 8 (ChangeValue Every (codes "F") (edits.Set (codes "b \\#")))) ((edit_on 10 (AddRecipe (Some 1) (codes "c") (At 1) (codes "say \"q\""))) ∷ []) ∷ tried_on 11 (SetRecipe (Some 2) (codes "c") (ByText (codes "t")) (codes "rm -f x")) ∷ on_line 12 (Apply (ExchangeLines (OfRuleRun (Some 1) (codes "c")) [])) ∷ [], ends (Refused 1) (codes "3: refused 5 Ambiguous 2\n") None) ∷  -- further-run-279
    (true, 100, codes "c:\nifdef A\n\ta\nendif\n\n\tb\nc: a\n\ta\nifdef A\n\tb\nX = 1\nendif\nF = -O2 a:b ", on_line 1 Redo ∷ on_line 2 (Apply (AddLine (AfterRule (Some 2) (codes "c")) (NewAssign (codes "t") Simple (codes "b =")))) ∷ on_line 3 (Apply (RemoveLines (OfRecipe (Some 2) (codes "c") (ByText (codes "b"))))) ∷ [], ends (Refused 2) (codes "1: refused 17 NothingToRedo\n2: refused 10 Straddles\n") (Some (codes "c:\nifdef A\n\ta\nendif\n\n\tb\nc: a\n\ta\nifdef A\nX = 1\nendif\nF = -O2 a:b "))) ∷  -- further-run-280
    (false, 2, codes "F = a \\\nX = 1\na.b = -g -g \n", Chain (edit_on 1 (ChangeValue (One None) (codes "F") (edits.SetIf [] (codes "-O2")))) (edit_on 2 (ExchangeLines (OfRun None (block_lines (codes "F = a \\\n  b"))) (block_lines (codes "define W\nF = a \\\n  b\nendef")))) ((edit_on 12 (ChangeValue (One (Some 2)) (codes "a.b") (edits.Remove (codes "-g")))) ∷ (edit_on 14 (ExchangeLines (OfRun None (block_lines (codes "a.b = -g -g "))) (block_lines (codes "b.b = -g -g ")))) ∷ []) ∷ tried_on 17 (ChangeLine None (codes "a.b") (edits.Substitute (codes "-g") (codes "}"))) ∷ Chain (edit_on 18 (SwitchLine CommentOut None (codes "F"))) (edit_on 19 (ChangeValue Every (codes "F") (edits.Remove (codes "-O2")))) ((edit_on 20 (SwitchLine CommentOut None (codes "F"))) ∷ (edit_on 22 (ChangeValue Every (codes "F") (edits.Remove (codes "a")))) ∷ []) ∷ on_line 23 (Apply (EachLine (SubstValues (codes "}") (codes "$(y)")))) ∷ on_line 24 Undo ∷ on_line 25 (Apply (ChangeValue (One None) (codes "a.b") (edits.Remove (codes "}")))) ∷ [], ends Done [] (Some (codes "#F = a \\\nX = 1\na.b = \n"))) ∷  -- further-run-281
    (true, 100, codes "#X = r\\\r\n s\nF\\\n=\\\n\\\n; -g ; -O2#-g\n", on_line 1 (Apply (ChangeValue (One None) (codes "F") (edits.SetIf (codes "; -g ; -O2") []))) ∷ on_line 2 (Apply (SwitchLine CommentOut (Some 1) (codes "F"))) ∷ Chain (edit_on 3 (SwitchLine Uncomment (Some 0) (codes "X"))) (edit_on 5 (ChangeValue (One None) (codes "F") (edits.Remove (codes "$(w a)")))) ((edit_on 7 (AddLine Top (NewRule (codes "c") Double (codes "a b")))) ∷ []) ∷ [], ends Done [] (Some (codes "c:: a b\r\n#X = r\\\r\n s\n#F\\\n=\\\n\\\n#-g\n"))) ∷  -- further-run-282
    (false, 100, codes "c: # c\n\ta\\\n", Chain (edit_on 1 (AddLine (BeforeRule None (codes "%.o")) (NewRule (codes "%.o %.o") Single (codes "a&b $(s\\)")))) (edit_on 2 (ChangeLine (Some 4294967295) (codes "F") (edits.Prepend (codes "-g")))) ((edit_on 4 (AddLine (AfterLastVar (codes "a.b")) (NewAssign (codes "X") Conditional (codes "-g a:b")))) ∷ (edit_on 6 (ExchangeLines (OfRuleRun (Some 1) (codes "c")) [])) ∷ []) ∷ on_line 7 (Apply (AddLine Bottom (NewAssign (codes "endef") Simple []))) ∷ on_line 8 (Apply (ExchangeLines (AtPlace Top) (block_lines (codes "a:\nifdef A\nendif")))) ∷ Chain (edit_on 13 (ChangeLine None (codes "endef") (edits.InsertWord Before (codes "\\#") (codes "${c}")))) (edit_on 14 (ExchangeLines (OfRuleRun None (codes "a")) [])) [] ∷ tried_on 15 (ExchangeLines (OfRuleRun None (codes "a")) []) ∷ on_line 16 (Apply (ChangeValue Every (codes "endef") (edits.SetIf [] []))) ∷ Chain (edit_on 17 (EachLine (ChangeEach (codes "F") (edits.SetOperator Recursive)))) (edit_on 18 (ChangeValue Every (codes "endef") (edits.Append (codes "b $(t -g)")))) [] ∷ Chain (edit_on 19 (ExchangeLines (AfterRun None (block_lines (codes "ifdef A"))) (block_lines (codes "ifdef B\nifdef C\nendif\nendif")))) (edit_on 27 (AddLine Bottom (NewRule (codes "d") Double []))) [] ∷ [], ends Done [] (Some (codes "ifdef A\nifdef B\nifdef C\nendif\nendif\nendif\nendef :=b $(t -g)\n"))) ∷  -- further-run-283
    (true, 100, codes "export X::= b \\\n; = a -g \n", Chain (edit_on 1 (ExchangeLines (OfRun (Some 0) (block_lines (codes "export X::= b \\\n; = a -g "))) (block_lines (codes "ifdef A\nexport X::= b \\\n; = a -g \nendif")))) (edit_on 10 (AddLine (AfterLastVar (codes "X")) (NewAssign (codes "F") Immediate (codes "| x$(a  b)")))) [] ∷ on_line 11 (Apply (ExchangeLines (AtPlace Top) (block_lines (codes "E \n\tE")))) ∷ tried_on 15 (AddRecipe (Some 1) (codes "c") (At 1) (codes "\ttrue")) ∷ on_line 16 (Apply (ExchangeLines (AfterRun None (block_lines (codes "E "))) (block_lines (codes "# a \\\n b")))) ∷ on_line 20 (Apply (ChangeLine None (codes "F") (edits.Substitute (codes " x") (codes "x=1")))) ∷ on_line 21 (Apply (ChangeLine None (codes "X") (edits.InsertWord After (codes "b") (codes "-lz")))) ∷ on_line 22 (Apply (ChangeValue Every (codes "X") (edits.Append (codes "a\\ b")))) ∷ tried_on 23 (ExchangeLines (OfRun (Some 0) (block_lines (codes "\tE\nexport X::= b \\\n-lz \\\n; = a -g a\\ b \nF :::= |x=1$(a  b)"))) (block_lines (codes "define Q\ndefine D\ndefine D"))) ∷ [], ends Done [] (Some (codes "E \n# a \\\n b\n\tE\nexport X::= b \\\n-lz \\\n; = a -g a\\ b \nF :::= |x=1$(a  b)\n"))) ∷  -- further-run-284
    (true, 2, codes "X = 1\n#F = a", on_line 1 (Apply (AddLine Bottom (NewAssign (codes "F") Conditional []))) ∷ tried_on 2 (AddLine Bottom (NewAssign (codes "override") Simple [])) ∷ on_line 3 (Apply (ChangePrereqs None (codes "d") (ReplacePrereq (codes "c") (codes "t")))) ∷ tried_on 4 (ChangeLine None (codes "F") (edits.SetOperator Simple)) ∷ on_line 5 (Apply (ChangeValue (One None) (codes "F") (edits.SetIf (codes "<<E") (codes "a")))) ∷ [], ends (Refused 2) (codes "3: refused 4 NoSuch\n5: refused 6 Absent\n") (Some (codes "X = 1\n#F = a\nF :=\noverride :=\n"))) ∷  -- further-run-286
    (false, 100, codes "c: ; true\r\n> a\r\nc d: b\r\nendif\r\n\ttrue\r\n", on_line 1 (Apply (AddLine (AfterRule (Some 1) (codes "c")) (NewAssign (codes "F") Shell []))) ∷ on_line 2 (Apply (ExchangeLines (OfRuleRun (Some 2) (codes "c")) (block_lines (codes "\tdone")))) ∷ on_line 5 Redo ∷ Chain (edit_on 6 (ChangeValue (One (Some 4294967295)) (codes "F") (edits.Add (codes ";")))) (edit_on 7 (ExchangeLines (AtPlace Bottom) (block_lines (codes "define D\nx\nendef")))) [] ∷ tried_on 12 (ChangeValue (One (Some 1)) (codes "X") (edits.Append (codes "$(a b)"))) ∷ on_line 13 End ∷ tried_on 14 (ChangeLine None (codes "F") (edits.InsertWord Before (codes "$(a b)") (codes "-O3"))) ∷ on_line 15 (Apply (SwitchLine CommentOut None (codes "X"))) ∷ Chain (edit_on 16 (ExchangeLines (AfterRun None (block_lines (codes "> a"))) (block_lines (codes "a: b\n\tcc -s x\na: b")))) (edit_on 21 (ChangeValue (One None) (codes "F") (edits.Remove (codes "\\#")))) ((edit_on 22 (ChangeLine None (codes "F") (edits.InsertWord After (codes "x$(a  b)") (codes "x.c")))) ∷ (edit_on 24 (AddRecipe (Some 1) (codes "c") (At 1) (codes "t"))) ∷ []) ∷ [], ends (Refused 1) (codes "2: refused 9 SharedRule 2\n") None) ∷  -- further-run-287
    (true, 100, codes "# F=-g b\nF := $\\ \\\nb \\\r\n a -g a:b \nc: x.o | a d\n\tfor f in x; do \\\n\t  cc $$f; \\\n\tdone\n", on_line 1 (Apply (SwitchLine Uncomment None (codes "F"))) ∷ on_line 2 (Apply (AddLine (AfterRule None (codes "c")) (NewRule (codes "d") Single (codes "a b")))) ∷ tried_on 3 (ExchangeLines (OfRuleRun None (codes "d")) []) ∷ [], ends Done [] (Some (codes "F=-g b\nF := $\\ \\\nb \\\r\n a -g a:b \nc: x.o | a d\n\tfor f in x; do \\\n\t  cc $$f; \\\n\tdone\n"))) ∷  -- further-run-288
    (true, 100, codes ".RECIPEPREFIX = t\n \nendif\n\nc d: \\\n x.o\nd: # c\nF\\\n= x=1\t-O2\\\n-g\n>ifdef Q", tried_on 1 (EachLine (ChangeEach (codes "F") (edits.Substitute (codes "-g") []))) ∷ Chain (edit_on 2 (ExchangeLines (OfRun (Some 0) (block_lines [])) [])) (edit_on 3 (EachLine (SubstValues (codes "t") []))) ((edit_on 4 (RemoveLines (OfRecipe None (codes "c") (ByText [])))) ∷ (edit_on 5 (ExchangeLines (OfRuleRun (Some 2) (codes "d")) (block_lines (codes "c d: \\\n x.o\nifeq (a,b)")))) ∷ []) ∷ tried_on 10 (ChangeValue Every (codes "F") (edits.SetIf (codes "a") (codes "b"))) ∷ on_line 11 Begin ∷ tried_on 12 (ChangeValue (One None) (codes "F") (edits.Append (codes "\\#"))) ∷ on_line 13 (Apply (ExchangeLines (OfRun None (block_lines (codes ">ifdef Q"))) (block_lines (codes "endif\nifdef B")))) ∷ [], ends (Refused 1) (codes "13: refused 21 Misread\n") (Some (codes ".RECIPEPREFIX = t\n \nendif\n\nc d: \\\n x.o\nd: # c\nF\\\n= x=1\t-O2 \\#\\\n\n>ifdef Q"))) ∷  -- further-run-290
    (false, 2, codes "# X = \0\n#\t\t Y !=b\nc d: \nc include:: # c\n\ttrue\n\t# n\nifdef A\nF = |\ta\t|\\\n\t-g# a \\\\\nelse\nF += b \\\n    \\\\\\\\ -g \nendif\n\t: X += # \\", on_line 1 (Apply (RemoveLines (OfRecipe None (codes "include") (ByText (codes "true"))))) ∷ on_line 2 (Apply (AddLine (AfterLastVar (codes "F")) (NewAssign (codes "t") Simple []))) ∷ on_line 3 (Apply (ChangeLine (Some 2) (codes "F") (edits.Substitute (codes "\\\\") (codes "$(y)")))) ∷ tried_on 4 (ExchangeLines (OfRun None (block_lines (codes "#\t\t Y !=b\nc d: \nc include:: # c"))) []) ∷ [], ends (Refused 1) (codes "1: refused 2 Reserved\n") None) ∷  -- further-run-291
    (true, 100, codes "F = -g\\\nb $(a\tb)\\\n\\\n-g# \\\n d\n# X = \0\n\t  cc $$f; \\\n", on_line 1 Undo ∷ on_line 2 (Apply (ChangeValue (One None) (codes "F") (edits.Add (codes "-g")))) ∷ on_line 3 Begin ∷ on_line 4 (Apply (ChangeLine (Some 1) (codes "F") (edits.SetOperator Shell))) ∷ on_line 5 Redo ∷ [], ends (Refused 3) (codes "1: refused 16 NothingToUndo\n2: refused 7 Already\n5: refused 18 GroupOpen\n") (Some (codes "F != -g\\\nb $(a\tb)\\\n\\\n-g# \\\n d\n# X = \0\n\t  cc $$f; \\\n"))) ∷  -- further-run-292
    (false, 100, codes "F = a \\\ni: \n\tcc -s x\n\tcc -s x\n\noverride X := a \\\n    $$ =  x=1 \\\\ #-g\n\na: b\nvpath %.c a\n\tfor f in x; do \\\n", Chain (edit_on 1 (ChangeValue Every (codes "X") (edits.SetIf [] []))) (edit_on 3 (ChangeValue (One None) (codes "X") (edits.Remove (codes "b")))) ((edit_on 4 (ExchangeLines (OfRun (Some 0) (block_lines (codes "override X := a \\\n    $$ =  x=1 \\\\ #-g"))) (block_lines (codes "endef")))) ∷ (edit_on 9 (ExchangeLines (OfRuleRun (Some 4294967295) (codes "a")) (block_lines (codes "a:\n\ta \\\n\tb")))) ∷ []) ∷ tried_on 14 (ExchangeLines (OfRun None (block_lines (codes "vpath %.c a"))) []) ∷ on_line 15 (Apply (ChangeLine None (codes "F") (edits.ReplaceWord (codes "a") (codes "$(w a) =")))) ∷ tried_on 16 (ChangePrereqs (Some 0) (codes "a") (AddPrereq true (codes "$(s\\)"))) ∷ Chain (edit_on 17 (ChangeValue (One None) (codes "a.b") (edits.Append (codes "a:b")))) (edit_on 19 (AddLine (AfterLastVar (codes "F")) (NewAssign (codes "F") Simple (codes "b")))) [] ∷ [], ends (Refused 1) (codes "14: refused 14 Leans\n") None) ∷  -- further-run-293
    (true, 100, codes "override define X =|a: b\n\tababa aaa\n\nendef\nX += \nc:\n>a\n\t>\n>\nF\\\n= \\\r\n $(a\tb) x=1\t\n", on_line 1 (Apply (AddLine (AfterRule None (codes "d")) (NewRule (codes "d") Double []))) ∷ on_line 2 (Apply (ExchangeLines (AtPlace Top) (block_lines (codes "endef\ndefine D")))) ∷ on_line 6 (Apply (ExchangeLines (AtPlace Top) (block_lines (codes "ifdef B\nifdef C\nendif\nendif")))) ∷ on_line 12 (Apply (ChangeValue (One None) (codes "F") (edits.Append (codes "$(s (b) a)")))) ∷ on_line 13 (Apply (AddLine (AfterRule None (codes "c")) (NewRule (codes "d") Double []))) ∷ on_line 14 (Apply (ExchangeLines (AtPlace (AfterLastVar (codes "F"))) (block_lines (codes "x \\\n")))) ∷ on_line 18 (Apply (SwitchLine CommentOut (Some 0) (codes "override"))) ∷ on_line 19 (Apply (ChangeValue (One None) (codes "F") (edits.SetIf (codes "$(a\tb) x=1 $(s (b) a)") []))) ∷ on_line 20 (Apply (ExchangeLines (OfRun None (block_lines (codes "  b"))) (block_lines []))) ∷ [], ends (Refused 4) (codes "1: refused 4 NoSuch\n2: refused 21 Misread\n18: refused 4 NoSuch\n20: refused 4 NoSuch\n") (Some (codes "ifdef B\nifdef C\nendif\nendif\noverride define X =|a: b\n\tababa aaa\n\nendef\nX += \nc:\nd::\n>a\n\t>\n>\nF\\\n= \\\r\n \nx \\\n\n"))) ∷  -- further-run-294
    (false, 100, codes "F+= a:b \\\r\n \\\r\n \\ b # a \\\\\r\nc&: a | b\r\n\ta\\\r\n b\r\nF\\\r\n::= $# -g a a\\ \\\r\n\t-g\r\n\ta \\\r\n\tb\r\n\t>a\r\noverride = \r\n", Chain (edit_on 1 (SwitchLine CommentOut (Some 2) (codes "F"))) (edit_on 3 (AddLine Top (NewRule (codes "%.o") Single []))) [] ∷ on_line 4 (Apply (ChangeValue (One None) (codes "F") (edits.Add (codes "$(a b)")))) ∷ Chain (edit_on 5 (ExchangeLines (OfRun None (block_lines (codes "%.o:"))) (block_lines (codes "%.o:\nF+= a:b \\\n \\\n \\ b $(a b) # a \\\\")))) (edit_on 11 (ExchangeLines (OfRuleRun None (codes "c")) [])) [] ∷ on_line 12 (Apply (ChangeLine None (codes "F") (edits.ReplaceWord (codes "\\ b") (codes "a$ b")))) ∷ [], ends Done [] (Some (codes "%.o:\r\nF+= a:b \\\r\n \\\r\n a$ b $(a b) # a \\\\\r\nc&: a | b\r\n\ta\\\r\n b\r\nF\\\r\n::= $# -g a a\\ \\\r\n\t-g\r\n\ta \\\r\n\tb\r\n\t>a\r\noverride = \r\n"))) ∷  -- further-run-295
    []

answers_5 : map (λ row. came_to row.0 row.1 row.2 row.3) rows_5 ≡ map (λ row. row.4) rows_5
unfolding digits
answers_5 = refl

abbrev rows_6 : List (Bool × ℕ × List ℕ × List Step × RunResult)
rows_6 =
    (true, 2, codes "X\\\n?= -g a:b# a \\\\", Chain (edit_on 1 (SwitchLine CommentOut None (codes "override"))) (edit_on 2 (ChangeValue (One None) (codes "X") (edits.Add (codes "${c}")))) [] ∷ on_line 3 (Apply (ExchangeLines (OfRun None (block_lines (codes "X\\\n?= -g a:b ${c}# a \\\\"))) (block_lines (codes "X = 1")))) ∷ [], ends Done [] (Some (codes "X = 1"))) ∷  -- further-run-296
    (false, 100, codes "\tdone\nvpath %.c a\n# override \\\n X = 1\nc x.o&: a\n\ta # b\n\t\\\n\n\t#\\\\\\\n\n\nc: ; true\nendif\n", on_line 1 (Apply (ExchangeLines (OfRun None (block_lines (codes "  b"))) [])) ∷ on_line 2 (Apply (ExchangeLines (BeforeRun None (block_lines (codes "X = 1"))) (block_lines (codes "# x")))) ∷ on_line 7 (Apply (ChangeValue (One None) (codes "F") (edits.Add (codes "-g")))) ∷ [], ends (Refused 1) (codes "1: refused 4 NoSuch\n") None) ∷  -- further-run-297
    (true, 100, codes "X = ababa\n# F is on\nX= b\n", on_line 1 (Apply (ChangeValue (One (Some 2)) (codes "X") (edits.Add (codes "a:b")))) ∷ on_line 2 (Apply (ExchangeLines (AtPlace (AfterVar None (codes "$(X)"))) (block_lines (codes "ifdef A\n\tx\nelse\n\ty\nendif")))) ∷ tried_on 9 (ChangeValue Every (codes "F") (edits.SetIf (codes "a") (codes "b"))) ∷ on_line 10 End ∷ on_line 11 (Apply (EachLine (ChangeEach (codes "X") (edits.Substitute (codes "b a:b") (codes "x"))))) ∷ on_line 12 (Apply (ChangeValue (One (Some 2)) (codes "X") (edits.Remove (codes "\\\\a")))) ∷ on_line 13 (Apply (ExchangeLines (OfRun None (block_lines (codes "# F is on"))) (block_lines (codes "ifdef A\n# F is on\nendif")))) ∷ Chain (edit_on 18 (ChangeValue Every (codes "X") (edits.SetIf (codes "ababa") (codes "$\\x -O2")))) (edit_on 19 (ChangeLine (Some 2) (codes "X") (edits.Prepend (codes "a ")))) [] ∷ [], ends (Refused 3) (codes "2: refused 1 BadArgument place\n10: refused 19 NoGroup\n12: refused 6 Absent\n") (Some (codes "X = $\\x -O2\nifdef A\n# F is on\nendif\nX= x\n"))) ∷  -- further-run-298
    (false, 100, codes "define D \\\n e\na: b\n\ttrue\n  b\nendef\nX\\\n?=  ", on_line 1 (Apply (ChangeValue Every (codes "X") (edits.Append (codes "$(A -g)")))) ∷ tried_on 2 (ChangeValue (One None) (codes "X") (edits.SetIf (codes "$(A -g)") [])) ∷ on_line 3 (Apply (ExchangeLines (OfRun None (block_lines (codes "\ttrue"))) [])) ∷ on_line 4 (Apply (ExchangeLines (AtPlace (AfterLastVar (codes "X"))) (block_lines (codes "a:\nifdef A\nendif")))) ∷ on_line 9 (Apply (ChangeValue (One None) (codes "X") (edits.SetIf [] []))) ∷ tried_on 10 (ChangeValue (One None) (codes "override") (edits.Append (codes "a"))) ∷ on_line 11 Undo ∷ on_line 12 (Apply (ChangeValue (One None) (codes "X") (edits.SetIf [] []))) ∷ on_line 13 (Apply (AddRecipe None (codes "a") (At 1) (codes ">a"))) ∷ [], ends Done [] (Some (codes "define D \\\n e\na: b\n  b\nendef\nX\\\n?=  \na:\n\t>a\nifdef A\nendif\n"))) ∷  -- further-run-299
    []

answers_6 : map (λ row. came_to row.0 row.1 row.2 row.3) rows_6 ≡ map (λ row. row.4) rows_6
unfolding digits
answers_6 = refl
