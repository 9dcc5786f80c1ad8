-- What a query prints of the text of a makefile for a person, and how it ends where nobody reads on; the
-- value that `get` prints, and how it is refused.
-- Told in docs/EDITS.md, "Queries".
use Rattle.std.specs.Prelude.{◌≡◌, ℕ, List, [], ◌++◌, Bool, true, false, Option, Some, None, IfSome, Result, Ok, Err, codes, option_map}
use Rattle.std.specs.Borrow.{Bor}
use Rattle.mk_tree.specs.Documents.{document_lines}
use Rattle.mk_tree.specs.LocatedLines.{LocatedLine}
use Rattle.mk_queries.specs.Queries.{check_text, recipes_text, rules_text, vars_text}
use Rattle.mk_edit_language.specs.declared.refusal.Refusal.{Refusal}
use Rattle.mk_session.specs.Lookups.{looked_up}
use Rattle.mk_run.specs.declared.outcome.Outcome.{Outcome}
use Rattle.mk_run.specs.declared.outcome.Outcome.TheVariants.{Done, Write}
use Rattle.mk_cli.specs.declared.request.Query.{Query}
use Rattle.mk_cli.specs.declared.request.Form.TheVariants as form
use Rattle.mk_cli.specs.declared.request.Question.{Question}
use Rattle.mk_cli.specs.declared.request.Question.TheVariants as question
use Rattle.mk_repl.specs.declared.question.Found.{Found}
use Rattle.mk_repl.specs.declared.question.Found.TheVariants as found
use Rattle.mk_cli.specs.declared.request.Query.TheVariants.{Vars, Rules, Recipes, Check, CheckTexts, Caveats}

-- the name or the target that is asked for, if one is
abbrev word_asked : Option (Bor (List ℕ)) → Option (List ℕ)
word_asked word = option_map (λ word. word.now) word

-- what a query prints of the lines of a makefile for a person; of `caveats`, and of the texts of lines that
-- `check` lists, no definition says it
abbrev pub query_text : Query → List LocatedLine → Option (List ℕ)
query_text (Vars name) lines = Some (vars_text (word_asked name) lines)
query_text (Rules target) lines = Some (rules_text (word_asked target) lines)
query_text (Recipes target) lines = Some (recipes_text (word_asked target) lines)
query_text Check lines = Some (check_text lines)
query_text CheckTexts lines = None
query_text Caveats lines = None

-- a text is the one that a definition says, if one does
abbrev pub IsSaid : (said : Option (List ℕ)) → (text : List ℕ) → Type 0
IsSaid said text = IfSome said (λ wanted. text ≡ wanted)

-- whether the name of the makefile stands before each line of an answer where several are asked; a line
-- of JSON has it in it
abbrev pub has_prefix : Question → Bool
has_prefix (question.List query form.Text) = true
has_prefix (question.List query form.Json) = false
has_prefix (question.Value nth name form.Text) = true
has_prefix (question.Value nth name form.Json) = false

-- a value and the end of its line; nothing where there is a refusal
abbrev value_line : Result (List ℕ) Refusal → List ℕ
value_line (Ok value) = value ++ codes "\n"
value_line (Err refusal) = []

abbrev refusal_in : Result (List ℕ) Refusal → Option Refusal
refusal_in (Ok value) = None
refusal_in (Err refusal) = Some refusal

-- what is printed for a question of the text of a makefile; of lines of JSON no definition says it
abbrev pub answer_text : Question → List ℕ → Option (List ℕ)
answer_text (question.List query form.Text) text = query_text query (document_lines text)
answer_text (question.List query form.Json) text = None
answer_text (question.Value nth name form.Text) text = Some (value_line (looked_up text nth name.now))
answer_text (question.Value nth name form.Json) text = None

-- the refusal of a question, if it is refused
abbrev pub answer_refusal : Question → List ℕ → Option Refusal
answer_refusal (question.List query form) text = None
answer_refusal (question.Value nth name form) text = refusal_in (looked_up text nth name.now)

-- what is printed of what is found for a question in the lines of a makefile
abbrev pub found_text : {B : Type 0} → Found B → List LocatedLine → Option (List ℕ)
found_text (found.Lines query) lines = query_text query lines
found_text (found.Json json) lines = Some json.items
found_text (found.Value value) lines = Some (value.now ++ codes "\n")

-- The outcome of a query by how its print ended, and whether a write failed since nobody reads the
-- output any more. Who reads no more has what is wanted: the query is done.
abbrev pub query_outcome : Outcome → (is_left : Bool) → Outcome
query_outcome Write true = Done
query_outcome outcome is_left = outcome
