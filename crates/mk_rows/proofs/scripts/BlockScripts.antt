-- Scripts and what they mean. Made by `tests/definitions/script_rows.py tests/cases/scripts/blocks.tsv`.
use Rattle.std.proofs.Common.{◌≡◌, refl, ℕ, List, [], ◌∷◌, map, Some, None}
use Rattle.std.specs.Prelude.{codes, Result, Ok, Err}
use Rattle.bstr.specs.Text.{line_len, lines_from}
use Rattle.mk_edit_language.specs.Edits.{Top, Bottom, BeforeVar, BeforeRun, AfterRun}
use Rattle.mk_edit_language.specs.Edits.{One, ByText, AtPlace, OfRun, ChangeValue, SetRecipe, ExchangeLines}
use Rattle.mk_edit_language.specs.Edits as edits
use Rattle.mk_edit_language.specs.LineRuns.{block_lines}
use Rattle.mk_history.specs.Machine.{Apply}
use Rattle.mk_script.specs.Scripts.{Step, Chain}
use Rattle.mk_rows.proofs.scripts.ScriptReader.{on_line, edit_on, tried_on, read_script}

abbrev rows_1 : List (List ℕ × Result (List Step) ℕ)
rows_1 =
    (codes "line-replace <<A <<B\nx\ny\nA\nz\nB\nset X 1\n", Ok (on_line 1 (Apply (ExchangeLines (OfRun None (block_lines (codes "x\ny"))) (block_lines (codes "z")))) ∷ on_line 7 (Apply (ChangeValue (One None) (codes "X") (edits.Set (codes "1")))) ∷ [])) ∷  -- two-blocks
    (codes "insert top <<E\nset X 1\n# n\nE\n", Ok (on_line 1 (Apply (ExchangeLines (AtPlace Top) (block_lines (codes "set X 1\n# n")))) ∷ [])) ∷  -- lines-like-commands
    (codes "insert top <<\nset X 1", Ok (on_line 1 (Apply (ExchangeLines (AtPlace Top) (block_lines (codes "<<")))) ∷ on_line 2 (Apply (ChangeValue (One None) (codes "X") (edits.Set (codes "1")))) ∷ [])) ∷  -- a-mark-without-a-word
    (codes "insert top \"<<E\"\nset X 1", Ok (on_line 1 (Apply (ExchangeLines (AtPlace Top) (block_lines (codes "<<E")))) ∷ on_line 2 (Apply (ChangeValue (One None) (codes "X") (edits.Set (codes "1")))) ∷ [])) ∷  -- a-mark-between-quotes
    (codes "insert top <<E\r\nx\r\ny\r\nE\r\nset X 1\r\n", Ok (on_line 1 (Apply (ExchangeLines (AtPlace Top) (block_lines (codes "x\ny")))) ∷ on_line 5 (Apply (ChangeValue (One None) (codes "X") (edits.Set (codes "1")))) ∷ [])) ∷  -- line-ends-of-two-bytes
    (codes "set X 1\nor insert bottom <<E\na\nb\nE\nor set X 2", Ok (Chain (edit_on 1 (ChangeValue (One None) (codes "X") (edits.Set (codes "1")))) (edit_on 2 (ExchangeLines (AtPlace Bottom) (block_lines (codes "a\nb")))) ((edit_on 6 (ChangeValue (One None) (codes "X") (edits.Set (codes "2")))) ∷ []) ∷ [])) ∷  -- or-with-a-block
    (codes "try nth 2 line-remove <<E\na\nb\nE", Ok (tried_on 1 (ExchangeLines (OfRun (Some 2) (block_lines (codes "a\nb"))) []) ∷ [])) ∷  -- try-and-nth-with-a-block
    (codes "insert top <<E\na\nb", Err 1) ∷  -- a-word-that-never-comes
    (codes "insert top <<E\nE\n", Err 1) ∷  -- an-empty-block
    (codes "insert before-line <<E <<E\na\nE\nb\nE\n", Ok (on_line 1 (Apply (ExchangeLines (BeforeRun None (block_lines (codes "a"))) (block_lines (codes "b")))) ∷ [])) ∷  -- one-word-twice
    (codes "insert before-var <<E b", Ok (on_line 1 (Apply (ExchangeLines (AtPlace (BeforeVar None (codes "<<E"))) (block_lines (codes "b")))) ∷ [])) ∷  -- a-mark-as-a-name
    (codes "insert before-var <<E <<E\nb\nc\nE\n", Ok (on_line 1 (Apply (ExchangeLines (AtPlace (BeforeVar None (codes "<<E"))) (block_lines (codes "b\nc")))) ∷ [])) ∷  -- a-mark-as-a-name-and-a-block
    (codes "insert before-line a <<E-F\nset X 1", Ok (on_line 1 (Apply (ExchangeLines (BeforeRun None (block_lines (codes "a"))) (block_lines (codes "<<E-F")))) ∷ on_line 2 (Apply (ChangeValue (One None) (codes "X") (edits.Set (codes "1")))) ∷ [])) ∷  -- a-mark-with-another-byte
    (codes "insert after-line <<1 \"\"\n\n1", Ok (on_line 1 (Apply (ExchangeLines (AfterRun None (block_lines [])) (block_lines []))) ∷ [])) ∷  -- a-block-of-one-empty-line
    (codes "recipe-replace a <<E <<E", Ok (on_line 1 (Apply (SetRecipe None (codes "a") (ByText (codes "<<E")) (codes "<<E"))) ∷ [])) ∷  -- marks-of-a-command-without-blocks
    (codes "insert top <<E\n\nE", Ok (on_line 1 (Apply (ExchangeLines (AtPlace Top) (block_lines []))) ∷ [])) ∷  -- an-empty-line-alone
    (codes "\"insert\" \"top\" <<_\n\tx\n_\n\n", Ok (on_line 1 (Apply (ExchangeLines (AtPlace Top) (block_lines (codes "\tx")))) ∷ [])) ∷  -- words-between-quotes
    (codes "# c\ninsert top <<E x\nE", Err 2) ∷  -- a-field-behind-a-mark
    (codes "or insert top <<E\na\nE", Err 1) ∷  -- a-stray-or-with-a-block
    (codes "nth 1 line-replace x <<Ab0\nAb0 \nab0\nAb0", Ok (on_line 1 (Apply (ExchangeLines (OfRun (Some 1) (block_lines (codes "x"))) (block_lines (codes "Ab0 \nab0")))) ∷ [])) ∷  -- lines-nearly-the-word
    (codes "all line-remove <<E\na\nE", Err 1) ∷  -- all-with-a-block
    (codes "insert <<E\na\nE", Err 1) ∷  -- no-place
    (codes "line-remove <<E <<E\na\nE\nb\nE", Err 1) ∷  -- a-mark-too-many
    (codes "try insert before-rule r <<E\na\nE\nor set X 1", Err 4) ∷  -- an-or-behind-a-try
    (codes "insert top <<E\nx\nE\r", Err 1) ∷  -- a-word-and-a-return
    []

answers_1 : map (λ row. read_script row.0) rows_1 ≡ map (λ row. row.1) rows_1
unfolding line_len lines_from
answers_1 = refl
