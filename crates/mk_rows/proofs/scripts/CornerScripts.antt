-- Scripts and what they mean. Made by `tests/definitions/script_rows.py tests/cases/scripts/corners.tsv`.
use Rattle.std.proofs.Common.{◌≡◌, refl, ℕ, true, false, List, [], ◌∷◌, map, Some, None}
use Rattle.std.specs.Prelude.{codes, Result, Ok, Err}
use Rattle.bstr.specs.Text.{line_len, lines_from}
use Rattle.mk_class.specs.declared.assignment.Flavor.TheVariants.{Recursive, Simple, PosixSimple, Immediate, Conditional, Append, Shell}
use Rattle.mk_edit_language.specs.declared.edit.RuleSeparator.TheVariants.{Single, Double}
use Rattle.mk_edit_language.specs.Edits.{Top, Bottom, AfterLastVar, BeforeVar, AfterVar, BeforeRule, AfterRule}
use Rattle.mk_edit_language.specs.Edits.{One, Every, NewAssign, NewRule, AddPrereq, RemovePrereq, ReplacePrereq, ByNumber, Last, OfAssign, OfRule, OfRecipe, CommentOut, Uncomment, OfRuleRun, ChangeEach, SubstValues, SubstRecipe, SubstRecipes, ChangeValue, ChangePrereqs, AddLine, AddRecipe, SetRecipe, RemoveLines, SwitchLine, RenameTarget, ExchangeLines, EachLine}
use Rattle.mk_edit_language.specs.Edits as edits
use Rattle.mk_edit_language.specs.LineRuns.{block_lines}
use Rattle.mk_history.specs.Machine.{Apply, Undo, Redo, Begin, End, Cancel}
use Rattle.mk_script.specs.Scripts.{Step, Chain}
use Rattle.mk_rows.proofs.scripts.ScriptReader.{on_line, edit_on, tried_on, read_script}

abbrev rows_1 : List (List ℕ × Result (List Step) ℕ)
rows_1 =
    (codes "set X \"a b\"", Ok (on_line 1 (Apply (ChangeValue (One None) (codes "X") (edits.Set (codes "a b")))) ∷ [])) ∷  -- a-quoted-blank
    (codes "set X \"a\\\"b\"", Ok (on_line 1 (Apply (ChangeValue (One None) (codes "X") (edits.Set (codes "a\"b")))) ∷ [])) ∷  -- an-escaped-quote
    (codes "set X \"a\\\\b\"", Ok (on_line 1 (Apply (ChangeValue (One None) (codes "X") (edits.Set (codes "a\\b")))) ∷ [])) ∷  -- an-escaped-backslash
    (codes "set X \"\\\\\\\"\"", Ok (on_line 1 (Apply (ChangeValue (One None) (codes "X") (edits.Set (codes "\\\"")))) ∷ [])) ∷  -- both-escapes
    (codes "set X \"a\\\\\"", Ok (on_line 1 (Apply (ChangeValue (One None) (codes "X") (edits.Set (codes "a\\")))) ∷ [])) ∷  -- an-escaped-backslash-at-the-end
    (codes "set X \"\"", Ok (on_line 1 (Apply (ChangeValue (One None) (codes "X") (edits.Set []))) ∷ [])) ∷  -- the-empty-field
    (codes "set \"\" v", Ok (on_line 1 (Apply (ChangeValue (One None) [] (edits.Set (codes "v")))) ∷ [])) ∷  -- an-empty-name
    (codes "set X \"a\"b", Err 1) ∷  -- a-quote-ends-within-a-field
    (codes "set X \"\"\"", Err 1) ∷  -- a-quote-directly-after-a-quote
    (codes "set X \"a\"\"b\"", Err 1) ∷  -- two-quoted-fields-without-a-blank
    (codes "set X \"a", Err 1) ∷  -- a-quote-without-an-end
    (codes "set X \"", Err 1) ∷  -- a-quote-alone
    (codes "set X \"\\a\"", Err 1) ∷  -- an-escape-of-another-byte
    (codes "set X \"a\\\"", Err 1) ∷  -- an-escaped-quote-without-an-end
    (codes "set X \"a\\", Err 1) ∷  -- a-backslash-at-the-end-of-a-line
    (codes "undo \"", Err 1) ∷  -- a-bad-quote-after-a-whole-command
    (codes "set X \"a\"\t ", Ok (on_line 1 (Apply (ChangeValue (One None) (codes "X") (edits.Set (codes "a")))) ∷ [])) ∷  -- a-blank-after-a-quote
    (codes "set X \"#\"", Ok (on_line 1 (Apply (ChangeValue (One None) (codes "X") (edits.Set (codes "#")))) ∷ [])) ∷  -- a-quoted-hash
    (codes "set X \"\t\"", Ok (on_line 1 (Apply (ChangeValue (One None) (codes "X") (edits.Set (codes "\t")))) ∷ [])) ∷  -- a-quoted-tab
    (codes "set X a\"b", Ok (on_line 1 (Apply (ChangeValue (One None) (codes "X") (edits.Set (codes "a\"b")))) ∷ [])) ∷  -- a-quote-in-a-bare-field
    (codes "set X a\"", Ok (on_line 1 (Apply (ChangeValue (One None) (codes "X") (edits.Set (codes "a\"")))) ∷ [])) ∷  -- a-bare-field-ends-in-a-quote
    (codes "set X a\\b", Ok (on_line 1 (Apply (ChangeValue (One None) (codes "X") (edits.Set (codes "a\\b")))) ∷ [])) ∷  -- a-backslash-in-a-bare-field
    (codes "set X \\\"", Ok (on_line 1 (Apply (ChangeValue (One None) (codes "X") (edits.Set (codes "\\\"")))) ∷ [])) ∷  -- a-bare-field-begins-with-a-backslash
    (codes "set X #", Ok (on_line 1 (Apply (ChangeValue (One None) (codes "X") (edits.Set (codes "#")))) ∷ [])) ∷  -- a-hash-in-a-bare-field
    (codes "set X \0", Ok (on_line 1 (Apply (ChangeValue (One None) (codes "X") (edits.Set (codes "\0")))) ∷ [])) ∷  -- a-zero-byte
    (codes "set é ÿ", Ok (on_line 1 (Apply (ChangeValue (One None) (codes "é") (edits.Set (codes "ÿ")))) ∷ [])) ∷  -- bytes-above-127
    (codes "set\u{c}X 1", Err 1) ∷  -- a-form-feed-is-no-blank
    (codes "set X\u{b}1", Err 1) ∷  -- a-vertical-tab-is-no-blank
    (codes " \tset\t\tX \t 1 \t", Ok (on_line 1 (Apply (ChangeValue (One None) (codes "X") (edits.Set (codes "1")))) ∷ [])) ∷  -- blanks-of-both-kinds
    (codes "\"set\" X 2", Ok (on_line 1 (Apply (ChangeValue (One None) (codes "X") (edits.Set (codes "2")))) ∷ [])) ∷  -- quoted-words
    (codes "\"undo\"", Ok (on_line 1 Undo ∷ [])) ∷  -- a-quoted-call
    (codes "nth \"1\" set X 2", Ok (on_line 1 (Apply (ChangeValue (One (Some 1)) (codes "X") (edits.Set (codes "2")))) ∷ [])) ∷  -- a-quoted-number
    (codes "assign \"bottom\" Y \"=\" 1", Ok (on_line 1 (Apply (AddLine Bottom (NewAssign (codes "Y") Recursive (codes "1")))) ∷ [])) ∷  -- a-quoted-place-and-operator
    (codes "\"s\\\\et\" X 2", Err 1) ∷  -- an-escape-in-a-keyword
    (codes "nth \"1\\\"\" set X 2", Err 1) ∷  -- an-escape-in-a-number
    ([], Ok []) ∷  -- no-line
    (codes "\n", Ok []) ∷  -- an-empty-line
    (codes "\t\n  \n", Ok []) ∷  -- blank-lines
    (codes "# set X 1", Ok []) ∷  -- a-comment
    (codes "# \"a\nundo", Ok (on_line 2 Undo ∷ [])) ∷  -- a-comment-with-a-bad-quote
    (codes "#", Ok []) ∷  -- a-hash-alone
    (codes " # x", Err 1) ∷  -- a-hash-after-a-blank
    (codes "undo\nredo", Ok (on_line 1 Undo ∷ on_line 2 Redo ∷ [])) ∷  -- the-last-line-without-end
    (codes "undo\n\n# c\n \nredo\n", Ok (on_line 1 Undo ∷ on_line 5 Redo ∷ [])) ∷  -- lines-are-counted-from-1
    (codes "undo\n\nx\ny\n", Err 3) ∷  -- the-first-line-that-is-no-command
    (codes "#\n\n#\nset\n", Err 4) ∷  -- a-fault-after-skipped-lines
    (codes "set X 1\r\nundo\r\n", Ok (on_line 1 (Apply (ChangeValue (One None) (codes "X") (edits.Set (codes "1")))) ∷ on_line 2 Undo ∷ [])) ∷  -- lines-end-in-crlf
    (codes "\r\n", Ok []) ∷  -- an-empty-line-with-crlf
    (codes "# c\r\nundo\r\n", Ok (on_line 2 Undo ∷ [])) ∷  -- a-comment-with-crlf
    (codes "\r", Err 1) ∷  -- one-return
    []

answers_1 : map (λ row. read_script row.0) rows_1 ≡ map (λ row. row.1) rows_1
unfolding line_len lines_from
answers_1 = refl

abbrev rows_2 : List (List ℕ × Result (List Step) ℕ)
rows_2 =
    (codes "set X 1\r", Ok (on_line 1 (Apply (ChangeValue (One None) (codes "X") (edits.Set (codes "1\r")))) ∷ [])) ∷  -- a-return-at-the-end-of-the-script
    (codes "set X \"1\"\r", Err 1) ∷  -- a-return-after-a-quote
    (codes "set X 1\r\r\n", Ok (on_line 1 (Apply (ChangeValue (One None) (codes "X") (edits.Set (codes "1\r")))) ∷ [])) ∷  -- two-returns-before-a-line-feed
    (codes "set X\r1 2\n", Ok (on_line 1 (Apply (ChangeValue (One None) (codes "X\r1") (edits.Set (codes "2")))) ∷ [])) ∷  -- a-return-within-a-line
    (codes "undo\r", Err 1) ∷  -- a-call-and-a-return
    (codes "nth 0000000012 set X 2", Ok (on_line 1 (Apply (ChangeValue (One (Some 12)) (codes "X") (edits.Set (codes "2")))) ∷ [])) ∷  -- nth-of-ten-digits
    (codes "nth 00000000012 set X 2", Err 1) ∷  -- nth-of-eleven-digits
    (codes "nth 4294967295 set X 2", Ok (on_line 1 (Apply (ChangeValue (One (Some 4294967295)) (codes "X") (edits.Set (codes "2")))) ∷ [])) ∷  -- the-greatest-nth
    (codes "nth 4294967296 set X 2", Err 1) ∷  -- one-more-than-the-greatest-nth
    (codes "nth 9999999999 set X 2", Err 1) ∷  -- the-greatest-ten-digits
    (codes "nth 0 set X 2", Ok (on_line 1 (Apply (ChangeValue (One (Some 0)) (codes "X") (edits.Set (codes "2")))) ∷ [])) ∷  -- nth-0
    (codes "nth \"\" set X 2", Err 1) ∷  -- an-empty-number
    (codes "nth +1 set X 2", Err 1) ∷  -- a-number-with-a-sign
    (codes "nth -1 set X 2", Err 1) ∷  -- a-number-below-0
    (codes "nth 1a set X 2", Err 1) ∷  -- a-number-with-a-letter
    (codes "nth 0x1 set X 2", Err 1) ∷  -- a-hexadecimal-number
    (codes "nth 1\r set X 2", Err 1) ∷  -- a-number-with-a-return
    (codes "nth / set X 2", Err 1) ∷  -- the-byte-before-0
    (codes "nth : set X 2", Err 1) ∷  -- the-byte-after-9
    (codes "recipe-set a 0 b", Ok (on_line 1 (Apply (SetRecipe None (codes "a") (ByNumber 0) (codes "b"))) ∷ [])) ∷  -- recipe-line-0
    (codes "recipe-del a 01", Ok (on_line 1 (Apply (RemoveLines (OfRecipe None (codes "a") (ByNumber 1)))) ∷ [])) ∷  -- a-recipe-line-with-a-leading-zero
    (codes "recipe-del a 4294967295", Ok (on_line 1 (Apply (RemoveLines (OfRecipe None (codes "a") (ByNumber 4294967295)))) ∷ [])) ∷  -- the-greatest-recipe-line
    (codes "recipe-set a 4294967296 b", Err 1) ∷  -- one-more-than-the-greatest-recipe-line
    (codes "recipe-del a x", Err 1) ∷  -- a-recipe-line-that-is-no-number
    (codes "nth", Err 1) ∷  -- nth-alone
    (codes "nth 2", Err 1) ∷  -- nth-without-a-command
    (codes "nth 1 nth 2 set X 3", Err 1) ∷  -- nth-twice
    (codes "nth 1 undo", Err 1) ∷  -- nth-before-undo
    (codes "nth 1 begin", Err 1) ∷  -- nth-before-begin
    (codes "nth 1 rename a b", Err 1) ∷  -- nth-before-rename
    (codes "nth 1 assign bottom X = 1", Err 1) ∷  -- nth-before-bottom
    (codes "nth 1 rule bottom a : b", Err 1) ∷  -- nth-before-a-rule-at-the-bottom
    (codes "nth set X 2", Err 1) ∷  -- nth-without-a-number
    (codes "nth 1 set X a\nnth 2 append X a\nnth 3 unset X\nnth 4 unrule t\nnth 5 depend t a\nnth 6 depend-order t a\nnth 7 undepend t a\nnth 8 recipe t a\nnth 9 recipe-set t 1 a\nnth 10 recipe-del t 1\n", Ok (on_line 1 (Apply (ChangeValue (One (Some 1)) (codes "X") (edits.Set (codes "a")))) ∷ on_line 2 (Apply (ChangeValue (One (Some 2)) (codes "X") (edits.Append (codes "a")))) ∷ on_line 3 (Apply (RemoveLines (OfAssign (Some 3) (codes "X")))) ∷ on_line 4 (Apply (RemoveLines (OfRule (Some 4) (codes "t")))) ∷ on_line 5 (Apply (ChangePrereqs (Some 5) (codes "t") (AddPrereq false (codes "a")))) ∷ on_line 6 (Apply (ChangePrereqs (Some 6) (codes "t") (AddPrereq true (codes "a")))) ∷ on_line 7 (Apply (ChangePrereqs (Some 7) (codes "t") (RemovePrereq (codes "a")))) ∷ on_line 8 (Apply (AddRecipe (Some 8) (codes "t") Last (codes "a"))) ∷ on_line 9 (Apply (SetRecipe (Some 9) (codes "t") (ByNumber 1) (codes "a"))) ∷ on_line 10 (Apply (RemoveLines (OfRecipe (Some 10) (codes "t") (ByNumber 1)))) ∷ [])) ∷  -- nth-of-each-edit
    (codes "nth 2 assign after-var X Y = 1\nnth 3 rule before-rule a b : c\n", Ok (on_line 1 (Apply (AddLine (AfterVar (Some 2) (codes "X")) (NewAssign (codes "Y") Recursive (codes "1")))) ∷ on_line 2 (Apply (AddLine (BeforeRule (Some 3) (codes "a")) (NewRule (codes "b") Single (codes "c")))) ∷ [])) ∷  -- nth-of-a-place
    (codes "set X a\nappend X a\nunset X\nunrule t\ndepend t a\ndepend-order t a\nundepend t a\nrecipe t \"a b\"\nrecipe-set t 1 a\nrecipe-del t 2\nrename a b\n", Ok (on_line 1 (Apply (ChangeValue (One None) (codes "X") (edits.Set (codes "a")))) ∷ on_line 2 (Apply (ChangeValue (One None) (codes "X") (edits.Append (codes "a")))) ∷ on_line 3 (Apply (RemoveLines (OfAssign None (codes "X")))) ∷ on_line 4 (Apply (RemoveLines (OfRule None (codes "t")))) ∷ on_line 5 (Apply (ChangePrereqs None (codes "t") (AddPrereq false (codes "a")))) ∷ on_line 6 (Apply (ChangePrereqs None (codes "t") (AddPrereq true (codes "a")))) ∷ on_line 7 (Apply (ChangePrereqs None (codes "t") (RemovePrereq (codes "a")))) ∷ on_line 8 (Apply (AddRecipe None (codes "t") Last (codes "a b"))) ∷ on_line 9 (Apply (SetRecipe None (codes "t") (ByNumber 1) (codes "a"))) ∷ on_line 10 (Apply (RemoveLines (OfRecipe None (codes "t") (ByNumber 2)))) ∷ on_line 11 (Apply (RenameTarget (codes "a") (codes "b"))) ∷ [])) ∷  -- each-edit
    (codes "begin\nend\nundo\nredo\nbegin\ncancel\n", Ok (on_line 1 Begin ∷ on_line 2 End ∷ on_line 3 Undo ∷ on_line 4 Redo ∷ on_line 5 Begin ∷ on_line 6 Cancel ∷ [])) ∷  -- each-call
    (codes "assign bottom A = 1\nassign bottom A := 1\nassign bottom A ::= 1\nassign bottom A :::= 1\nassign bottom A ?= 1\nassign bottom A += 1\nassign bottom A != 1\n", Ok (on_line 1 (Apply (AddLine Bottom (NewAssign (codes "A") Recursive (codes "1")))) ∷ on_line 2 (Apply (AddLine Bottom (NewAssign (codes "A") Simple (codes "1")))) ∷ on_line 3 (Apply (AddLine Bottom (NewAssign (codes "A") PosixSimple (codes "1")))) ∷ on_line 4 (Apply (AddLine Bottom (NewAssign (codes "A") Immediate (codes "1")))) ∷ on_line 5 (Apply (AddLine Bottom (NewAssign (codes "A") Conditional (codes "1")))) ∷ on_line 6 (Apply (AddLine Bottom (NewAssign (codes "A") Append (codes "1")))) ∷ on_line 7 (Apply (AddLine Bottom (NewAssign (codes "A") Shell (codes "1")))) ∷ [])) ∷  -- each-operator
    (codes "assign bottom A = 1\nassign before-var X A = 1\nassign after-var X A = 1\nassign before-rule t A = 1\nrule bottom a : b\nrule before-var X a : b\nrule after-var X a : b\nrule before-rule t a : b\n", Ok (on_line 1 (Apply (AddLine Bottom (NewAssign (codes "A") Recursive (codes "1")))) ∷ on_line 2 (Apply (AddLine (BeforeVar None (codes "X")) (NewAssign (codes "A") Recursive (codes "1")))) ∷ on_line 3 (Apply (AddLine (AfterVar None (codes "X")) (NewAssign (codes "A") Recursive (codes "1")))) ∷ on_line 4 (Apply (AddLine (BeforeRule None (codes "t")) (NewAssign (codes "A") Recursive (codes "1")))) ∷ on_line 5 (Apply (AddLine Bottom (NewRule (codes "a") Single (codes "b")))) ∷ on_line 6 (Apply (AddLine (BeforeVar None (codes "X")) (NewRule (codes "a") Single (codes "b")))) ∷ on_line 7 (Apply (AddLine (AfterVar None (codes "X")) (NewRule (codes "a") Single (codes "b")))) ∷ on_line 8 (Apply (AddLine (BeforeRule None (codes "t")) (NewRule (codes "a") Single (codes "b")))) ∷ [])) ∷  -- each-place
    (codes "rule bottom \"a b\" : \"c d\"\nrule bottom a :: \"\"\n", Ok (on_line 1 (Apply (AddLine Bottom (NewRule (codes "a b") Single (codes "c d")))) ∷ on_line 2 (Apply (AddLine Bottom (NewRule (codes "a") Double []))) ∷ [])) ∷  -- both-separators
    (codes "assign bottom X Y = 1", Err 1) ∷  -- a-place-after-the-bottom
    (codes "assign bottom X == 1", Err 1) ∷  -- no-operator
    (codes "rule bottom a &: b", Err 1) ∷  -- no-separator
    (codes "rule bottom a ::: b", Err 1) ∷  -- three-colons
    (codes "assign end X = 1", Err 1) ∷  -- no-place
    (codes "assign behind-rule t X = 1", Err 1) ∷  -- a-place-behind-a-rule
    (codes "rule bottom a = b", Err 1) ∷  -- an-operator-where-a-separator-stands
    (codes "assign bottom X =", Err 1) ∷  -- no-value
    (codes "assign bottom X = \"\"", Ok (on_line 1 (Apply (AddLine Bottom (NewAssign (codes "X") Recursive []))) ∷ [])) ∷  -- an-empty-value
    (codes "rule bottom a :", Err 1) ∷  -- no-prerequisites
    []

answers_2 : map (λ row. read_script row.0) rows_2 ≡ map (λ row. row.1) rows_2
unfolding line_len lines_from
answers_2 = refl

abbrev rows_3 : List (List ℕ × Result (List Step) ℕ)
rows_3 =
    (codes "rule a : b", Err 1) ∷  -- no-place-for-a-rule
    (codes "set X", Err 1) ∷  -- a-field-too-few
    (codes "set X 1 2", Err 1) ∷  -- a-field-too-many
    (codes "unset", Err 1) ∷  -- one-field-for-unset
    (codes "unset X Y", Err 1) ∷  -- two-fields-for-unset
    (codes "undo 1", Err 1) ∷  -- a-field-after-undo
    (codes "cancel 1", Err 1) ∷  -- a-field-after-cancel
    (codes "recipe-set t 1", Err 1) ∷  -- two-fields-for-recipe-set
    (codes "recipe-del t 1 a", Err 1) ∷  -- three-fields-for-recipe-del
    (codes "sets X 1", Err 1) ∷  -- another-word
    (codes "se X 1", Err 1) ∷  -- a-shorter-word
    (codes "Set X 1", Err 1) ∷  -- a-word-in-capitals
    (codes "\"\" X 1", Err 1) ∷  -- an-empty-word
    (codes "bottom", Err 1) ∷  -- a-place-as-a-word
    (codes "try set X 1", Ok (tried_on 1 (ChangeValue (One None) (codes "X") (edits.Set (codes "1"))) ∷ [])) ∷  -- an-edit-behind-try
    (codes "try nth 2 set X 1", Ok (tried_on 1 (ChangeValue (One (Some 2)) (codes "X") (edits.Set (codes "1"))) ∷ [])) ∷  -- try-before-nth
    (codes "\"try\" unset X", Ok (tried_on 1 (RemoveLines (OfAssign None (codes "X"))) ∷ [])) ∷  -- try-between-quotes
    (codes "set X 1\nor assign bottom X = 1", Ok (Chain (edit_on 1 (ChangeValue (One None) (codes "X") (edits.Set (codes "1")))) (edit_on 2 (AddLine Bottom (NewAssign (codes "X") Recursive (codes "1")))) [] ∷ [])) ∷  -- an-edit-and-an-alternative
    (codes "set X 1\nor set Y 1\nor set Z 1\nor set W 1", Ok (Chain (edit_on 1 (ChangeValue (One None) (codes "X") (edits.Set (codes "1")))) (edit_on 2 (ChangeValue (One None) (codes "Y") (edits.Set (codes "1")))) ((edit_on 3 (ChangeValue (One None) (codes "Z") (edits.Set (codes "1")))) ∷ (edit_on 4 (ChangeValue (One None) (codes "W") (edits.Set (codes "1")))) ∷ []) ∷ [])) ∷  -- three-alternatives
    (codes "set X 1\n# c\n\n \t\nor nth 2 unset X\n", Ok (Chain (edit_on 1 (ChangeValue (One None) (codes "X") (edits.Set (codes "1")))) (edit_on 5 (RemoveLines (OfAssign (Some 2) (codes "X")))) [] ∷ [])) ∷  -- comments-and-blank-lines-in-a-chain
    (codes "unset X\n\"or\" unset Y", Ok (Chain (edit_on 1 (RemoveLines (OfAssign None (codes "X")))) (edit_on 2 (RemoveLines (OfAssign None (codes "Y")))) [] ∷ [])) ∷  -- or-between-quotes
    (codes "unset A\nor unset B\nunset C\nor unset D\ntry unset E", Ok (Chain (edit_on 1 (RemoveLines (OfAssign None (codes "A")))) (edit_on 2 (RemoveLines (OfAssign None (codes "B")))) [] ∷ Chain (edit_on 3 (RemoveLines (OfAssign None (codes "C")))) (edit_on 4 (RemoveLines (OfAssign None (codes "D")))) [] ∷ tried_on 5 (RemoveLines (OfAssign None (codes "E"))) ∷ [])) ∷  -- two-chains
    (codes "rename a b\nor rename c b", Ok (Chain (edit_on 1 (RenameTarget (codes "a") (codes "b"))) (edit_on 2 (RenameTarget (codes "c") (codes "b"))) [] ∷ [])) ∷  -- an-alternative-below-rename
    (codes "or set X 1", Err 1) ∷  -- or-in-the-first-line
    (codes "# c\n\nor set X 1", Err 3) ∷  -- or-below-a-comment-alone
    (codes "try set X 1\nor set Y 1", Err 2) ∷  -- or-below-try
    (codes "set X 1\nundo\nor set Y 1", Err 3) ∷  -- or-below-undo
    (codes "begin\nor set Y 1", Err 2) ∷  -- or-below-begin
    (codes "begin\nend\nor set Y 1", Err 3) ∷  -- or-below-end
    (codes "begin\ncancel\nor set Y 1", Err 3) ∷  -- or-below-cancel
    (codes "redo\nor set Y 1", Err 2) ∷  -- or-below-redo
    (codes "set X 1\nor undo", Err 2) ∷  -- or-before-undo
    (codes "set X 1\nor end", Err 2) ∷  -- or-before-end
    (codes "set X 1\nor try set Y 1", Err 2) ∷  -- or-before-try
    (codes "set X 1\nor or set Y 1", Err 2) ∷  -- or-before-or
    (codes "set X 1\nor", Err 2) ∷  -- or-alone
    (codes "set X 1\nor set Y", Err 2) ∷  -- or-before-a-bad-edit
    (codes "unset X\nor unset Y\nundo\nor unset Z", Err 4) ∷  -- or-below-a-chain-whose-or-is-behind-a-call
    (codes "try redo", Err 1) ∷  -- try-before-redo
    (codes "try begin", Err 1) ∷  -- try-before-begin
    (codes "try cancel", Err 1) ∷  -- try-before-cancel
    (codes "set X 1\ntry or set Y 1", Err 2) ∷  -- try-before-or
    (codes "try try set X 1", Err 1) ∷  -- try-before-try
    (codes "try", Err 1) ∷  -- try-alone
    (codes "try set X", Err 1) ∷  -- try-before-a-bad-edit
    (codes "nth 1 try set X 1", Err 1) ∷  -- nth-before-try
    (codes "set X 1\nnth 1 or set X 1", Err 2) ∷  -- nth-before-or
    (codes "try set X \"a", Err 1) ∷  -- a-bad-quote-behind-try
    (codes "unrule or\nor unrule try", Ok (Chain (edit_on 1 (RemoveLines (OfRule None (codes "or")))) (edit_on 2 (RemoveLines (OfRule None (codes "try")))) [] ∷ [])) ∷  -- a-target-called-or
    (codes "Try set X 1", Err 1) ∷  -- try-in-capitals
    []

answers_3 : map (λ row. read_script row.0) rows_3 ≡ map (λ row. row.1) rows_3
unfolding line_len lines_from
answers_3 = refl

abbrev rows_4 : List (List ℕ × Result (List Step) ℕ)
rows_4 =
    (codes "all set X 1", Ok (on_line 1 (Apply (ChangeValue Every (codes "X") (edits.Set (codes "1")))) ∷ [])) ∷  -- all-before-set
    (codes "all append X a b", Err 1) ∷  -- all-before-append
    (codes "all append X \"a b\"", Ok (on_line 1 (Apply (ChangeValue Every (codes "X") (edits.Append (codes "a b")))) ∷ [])) ∷  -- all-before-append-of-a-quoted-text
    (codes "\"all\" \"add\" X -g", Ok (on_line 1 (Apply (ChangeValue Every (codes "X") (edits.Add (codes "-g")))) ∷ [])) ∷  -- all-before-add-in-quotes
    (codes "\tall  drop\tX -g ", Ok (on_line 1 (Apply (ChangeValue Every (codes "X") (edits.Remove (codes "-g")))) ∷ [])) ∷  -- all-before-drop
    (codes "all set X \"\"", Ok (on_line 1 (Apply (ChangeValue Every (codes "X") (edits.Set []))) ∷ [])) ∷  -- all-with-an-empty-value
    (codes "all set X", Err 1) ∷  -- all-without-a-value
    (codes "set X 1\nall", Err 2) ∷  -- all-alone
    (codes "All set X 1", Err 1) ∷  -- all-in-capitals
    (codes "alls set X 1", Err 1) ∷  -- all-and-a-letter
    (codes "set all all\nall drop all all", Ok (on_line 1 (Apply (ChangeValue (One None) (codes "all") (edits.Set (codes "all")))) ∷ on_line 2 (Apply (ChangeValue Every (codes "all") (edits.Remove (codes "all")))) ∷ [])) ∷  -- a-variable-called-all
    (codes "unrule all\nrule bottom all : all", Ok (on_line 1 (Apply (RemoveLines (OfRule None (codes "all")))) ∷ on_line 2 (Apply (AddLine Bottom (NewRule (codes "all") Single (codes "all")))) ∷ [])) ∷  -- a-target-called-all
    (codes "all unset X", Err 1) ∷  -- all-before-unset
    (codes "all assign bottom X = 1", Err 1) ∷  -- all-before-assign
    (codes "all depend a b", Err 1) ∷  -- all-before-depend
    (codes "all rename a b", Err 1) ∷  -- all-before-rename
    (codes "all undo", Err 1) ∷  -- all-before-undo
    (codes "all all set X 1", Err 1) ∷  -- all-before-all
    (codes "all nth 1 set X 1", Err 1) ∷  -- all-before-nth
    (codes "nth 1 all set X 1", Err 1) ∷  -- nth-before-all
    (codes "all try set X 1", Err 1) ∷  -- all-before-try
    (codes "set X 1\nall or set X 2", Err 2) ∷  -- all-before-or
    (codes "set all X 1", Err 1) ∷  -- all-behind-the-edit
    (codes "try all set X 1", Ok (tried_on 1 (ChangeValue Every (codes "X") (edits.Set (codes "1"))) ∷ [])) ∷  -- all-behind-try
    (codes "all add X a\nor all set X b\nor set Y c", Ok (Chain (edit_on 1 (ChangeValue Every (codes "X") (edits.Add (codes "a")))) (edit_on 2 (ChangeValue Every (codes "X") (edits.Set (codes "b")))) ((edit_on 3 (ChangeValue (One None) (codes "Y") (edits.Set (codes "c")))) ∷ []) ∷ [])) ∷  -- all-in-a-chain
    (codes "all append X +=\nassign bottom X += 1", Ok (on_line 1 (Apply (ChangeValue Every (codes "X") (edits.Append (codes "+=")))) ∷ on_line 2 (Apply (AddLine Bottom (NewAssign (codes "X") Append (codes "1")))) ∷ [])) ∷  -- all-of-an-operator-called-append
    (codes "all prepend X a", Ok (on_line 1 (Apply (EachLine (ChangeEach (codes "X") (edits.Prepend (codes "a"))))) ∷ [])) ∷  -- all-before-prepend
    (codes "all replace X a \"b c\"", Ok (on_line 1 (Apply (EachLine (ChangeEach (codes "X") (edits.ReplaceWord (codes "a") (codes "b c"))))) ∷ [])) ∷  -- all-before-replace
    (codes "all subst X a \"\"", Ok (on_line 1 (Apply (EachLine (ChangeEach (codes "X") (edits.Substitute (codes "a") [])))) ∷ [])) ∷  -- all-before-subst
    (codes "all operator X ::=", Ok (on_line 1 (Apply (EachLine (ChangeEach (codes "X") (edits.SetOperator PosixSimple)))) ∷ [])) ∷  -- all-before-operator
    (codes "all operator X ==", Err 1) ∷  -- all-with-an-unknown-operator
    (codes "all replace X a", Err 1) ∷  -- all-before-replace-of-two-fields
    (codes "all add-before X a b", Err 1) ∷  -- all-before-add-before
    (codes "all add-after X a b", Err 1) ∷  -- all-before-add-after
    (codes "nth 1 all prepend X a", Err 1) ∷  -- nth-before-all-and-prepend
    (codes "\"values-subst\" a \"b c\"", Ok (on_line 1 (Apply (EachLine (SubstValues (codes "a") (codes "b c")))) ∷ [])) ∷  -- a-change-of-all-values
    (codes "nth 1 values-subst a b", Err 1) ∷  -- nth-before-a-change-of-all-values
    (codes "all values-subst a b", Err 1) ∷  -- all-before-a-change-of-all-values
    (codes "values-subst X a b", Err 1) ∷  -- a-change-of-all-values-with-a-name
    (codes "nth 002 recipe-subst t a b", Ok (on_line 1 (Apply (EachLine (SubstRecipe (Some 2) (codes "t") (codes "a") (codes "b")))) ∷ [])) ∷  -- nth-before-recipe-subst
    (codes "recipe-subst t a", Err 1) ∷  -- recipe-subst-of-two-fields
    (codes "all recipe-subst t a b", Err 1) ∷  -- all-before-recipe-subst
    (codes "try recipes-subst \"; \\\\\" \"&& \\\\\"", Ok (tried_on 1 (EachLine (SubstRecipes (codes "; \\") (codes "&& \\"))) ∷ [])) ∷  -- try-before-a-change-of-all-recipes
    (codes "nth 1 recipes-subst a b", Err 1) ∷  -- nth-before-a-change-of-all-recipes
    (codes "values-subst a b\nor recipes-subst a b\nor recipe-subst t a b\nor all subst X a b", Ok (Chain (edit_on 1 (EachLine (SubstValues (codes "a") (codes "b")))) (edit_on 2 (EachLine (SubstRecipes (codes "a") (codes "b")))) ((edit_on 3 (EachLine (SubstRecipe None (codes "t") (codes "a") (codes "b")))) ∷ (edit_on 4 (EachLine (ChangeEach (codes "X") (edits.Substitute (codes "a") (codes "b"))))) ∷ []) ∷ [])) ∷  -- a-chain-of-edits-of-several-lines
    (codes "values-subst <<E <<F\nset X 1", Ok (on_line 1 (Apply (EachLine (SubstValues (codes "<<E") (codes "<<F")))) ∷ on_line 2 (Apply (ChangeValue (One None) (codes "X") (edits.Set (codes "1")))) ∷ [])) ∷  -- a-mark-in-a-change-of-all-values
    (codes "nth 2 assign after-rule t X = 1", Ok (on_line 1 (Apply (AddLine (AfterRule (Some 2) (codes "t")) (NewAssign (codes "X") Recursive (codes "1")))) ∷ [])) ∷  -- a-place-after-a-rule
    (codes "rule after-last-var X a : b", Ok (on_line 1 (Apply (AddLine (AfterLastVar (codes "X")) (NewRule (codes "a") Single (codes "b")))) ∷ [])) ∷  -- a-place-after-the-last-variable
    (codes "assign top X = 1", Ok (on_line 1 (Apply (AddLine Top (NewAssign (codes "X") Recursive (codes "1")))) ∷ [])) ∷  -- a-place-at-the-top
    (codes "nth 1 assign top X = 1", Err 1) ∷  -- a-number-before-the-top
    []

answers_4 : map (λ row. read_script row.0) rows_4 ≡ map (λ row. row.1) rows_4
unfolding line_len lines_from
answers_4 = refl

abbrev rows_5 : List (List ℕ × Result (List Step) ℕ)
rows_5 =
    (codes "nth 1 insert after-last-var X y", Err 1) ∷  -- a-number-before-the-last-variable
    (codes "insert after-last-var y", Err 1) ∷  -- no-name-of-the-last-variable
    (codes "nth 2 set-if A B C", Ok (on_line 1 (Apply (ChangeValue (One (Some 2)) (codes "A") (edits.SetIf (codes "B") (codes "C")))) ∷ [])) ∷  -- a-value-that-is-expected
    (codes "all set-if A \"\" C", Ok (on_line 1 (Apply (ChangeValue Every (codes "A") (edits.SetIf [] (codes "C")))) ∷ [])) ∷  -- all-that-have-a-value
    (codes "set-if A B", Err 1) ∷  -- a-value-that-is-expected-alone
    (codes "depend-replace t a b", Ok (on_line 1 (Apply (ChangePrereqs None (codes "t") (ReplacePrereq (codes "a") (codes "b")))) ∷ [])) ∷  -- a-prerequisite-replaced
    (codes "comment-out A\nnth 3 uncomment B", Ok (on_line 1 (Apply (SwitchLine CommentOut None (codes "A"))) ∷ on_line 2 (Apply (SwitchLine Uncomment (Some 3) (codes "B"))) ∷ [])) ∷  -- comments-that-switch
    (codes "all uncomment A", Err 1) ∷  -- all-comments
    (codes "nth 2 rule-replace t x", Ok (on_line 1 (Apply (ExchangeLines (OfRuleRun (Some 2) (codes "t")) (block_lines (codes "x")))) ∷ [])) ∷  -- a-rule-replaced
    (codes "rule-remove t", Ok (on_line 1 (Apply (ExchangeLines (OfRuleRun None (codes "t")) [])) ∷ [])) ∷  -- a-rule-removed
    []

answers_5 : map (λ row. read_script row.0) rows_5 ≡ map (λ row. row.1) rows_5
unfolding line_len lines_from
answers_5 = refl
