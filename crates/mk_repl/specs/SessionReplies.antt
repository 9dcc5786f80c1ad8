-- What a makefile that is open replies to a command by the protocol, and what is shown after it. Its text is
-- a line, or a line and below it those of its blocks.
-- Told in docs/PROTOCOL.md, "Replies" and "Requests".
use Rattle.std.specs.Prelude.{◌≡◌, ◌≢◌, ◌⊎◌, ⊤, ℕ, Bool, true, false, ◌&&◌, if◌then◌else◌, List, ◌++◌, Option, Some, None, Result, Ok, Err, Vec, IfOk, IfSome, is_ok, is_some, option_and_then, codes}
use Rattle.mk_edit_language.specs.declared.refusal.Refusal.TheVariants.{GroupOpen}
use Rattle.mk_history.specs.Shown.{Shown}
use Rattle.mk_cli.specs.declared.request.Query.{Query}
use Rattle.mk_repl.specs.AnswerLines.{answer_lines, lines_between}
use Rattle.mk_repl.specs.QueryTexts.{query_text}
use Rattle.mk_repl.specs.Replies.{IsLineExecuted, reply_to}
use Rattle.mk_repl.specs.Requests.{Asked, Print, Of, Word, request_in}
use Rattle.mk_repl.specs.Reverted.{undone}
use Rattle.mk_repl.specs.declared.answer.Executed as o
use Rattle.mk_repl.specs.declared.answer.Executed.TheVariants.{NoCommand}
use Rattle.mk_repl.specs.declared.request.RequestOf.TheVariants as of
use Rattle.mk_repl.specs.declared.request.RequestWord.TheVariants as word
use Rattle.mk_repl.specs.declared.talk.After.{After}
use Rattle.mk_repl.specs.declared.talk.After.TheVariants.{GoesOn, Ends}
use Rattle.mk_cli.specs.declared.request.Form.TheVariants.{Text}
use Rattle.mk_queries.specs.Queries.{check_text, recipes_text, rules_text, vars_text}
use Rattle.mk_tree.specs.Documents.{document_lines}
use Rattle.mk_repl.specs.SessionFaults.{fault_text}
use Rattle.mk_repl.specs.SessionForms.{in_form}
use Rattle.mk_repl.specs.StandingScripts.{MakesText}
use Rattle.mk_repl.specs.declared.server.Opened.{Opened}
use Rattle.mk_repl.specs.declared.not_done.NotDone.{NotDone}
use Rattle.mk_repl.specs.declared.not_done.NotDone.TheVariants.{NoMemory, Refused, BeyondDepth}

-- the text of an answer, or why a request is not done
abbrev pub answer_text : {A : Type 0} → Result (Vec ℕ A) NotDone → Result (List ℕ) NotDone
answer_text (Ok text) = Ok text.items
answer_text (Err why) = Err why

-- ---- what is shown after a request

-- This came of a `revert`: all is undone that can be, and the text is the one that was opened, or it is
-- another, or that is not known; or a group is open, and nothing has changed.
abbrev pub IsReverted : {A : Type 0} → (opened : List ℕ) → (old new : Shown (List ℕ)) → Result A NotDone → Type 0
IsReverted opened old new (Ok answer) = (new ≡ undone old) × (new.text ≡ opened)
IsReverted opened old new (Err BeyondDepth) = (new ≡ undone old) × (new.text ≢ opened)
IsReverted opened old new (Err NoMemory) = new ≡ undone old
IsReverted opened old new (Err (Refused refusal)) =
    (refusal ≡ GroupOpen) × (is_some old.begun ≡ true) × (new ≡ old)
IsReverted opened old new (Err other) = ⊥

-- the answer for a person to a request by the text that is shown, where it has one of these
abbrev answer_for_person : (text : List ℕ) → Asked → Option (List ℕ)
answer_for_person text (Print from to) = Some (lines_between from to text)
answer_for_person text (Word word.Vars) = Some (vars_text None (document_lines text))
answer_for_person text (Word word.Rules) = Some (rules_text None (document_lines text))
answer_for_person text (Word word.Recipes) = Some (recipes_text None (document_lines text))
answer_for_person text (Word word.Check) = Some (check_text (document_lines text))
answer_for_person text (Of of.Vars name) = Some (vars_text (Some name) (document_lines text))
answer_for_person text (Of of.Rules target) = Some (rules_text (Some target) (document_lines text))
answer_for_person text (Of of.Recipes target) =
    Some (recipes_text (Some target) (document_lines text))
answer_for_person text other = None

-- the lines that a request asks for by their numbers, if it does
abbrev pub answer_printed : (text : List ℕ) → Asked → Option (List ℕ)
answer_printed text (Print from to) = Some (lines_between from to text)
answer_printed text other = None

-- what holds of `script`
abbrev pub IfScript : Asked → Type 0 → Type 0
IfScript (Word word.Script) P = P
IfScript other P = ⊤

-- A query has the answer to a request, which is not `script`; or none has it, and the answer is known only
-- where it is lines that are asked for by their numbers.
abbrev pub IsListed : Asked → Option Query → Type 0
IsListed asked (Some query) =
    IfScript asked ⊥
    × ((text : List ℕ) → answer_for_person text asked ≡ query_text query (document_lines text))
IsListed asked None = (text : List ℕ) → answer_for_person text asked ≡ answer_printed text asked

-- the answer for a person in the form in which the makefile was opened
abbrev pub answer_in : Opened → (text : List ℕ) → Asked → Option (List ℕ)
answer_in opened text asked = option_and_then (in_form opened.form) (answer_for_person text asked)

-- a request that is done has this answer, if there is one
abbrev pub HasAnswer : (wanted : Option (List ℕ)) → Result (List ℕ) NotDone → Type 0
HasAnswer wanted result = IfSome wanted (λ text. IfOk result (λ answer. answer ≡ text))

-- a script is answered for a person: it makes the text that is shown of the one that was opened
abbrev pub HasScript : Opened → (text : List ℕ) → Result (List ℕ) NotDone → Type 0
HasScript opened text result =
    opened.form ≡ Text → IfOk result (λ script. MakesText script opened.text.items text)

-- This came of a request, and this is shown before and after it: no other than `revert` changes anything.
abbrev pub IsRequestDone : Asked → Opened → (old new : Shown (List ℕ))
    → Result (List ℕ) NotDone → Type 0
IsRequestDone (Word word.Revert) opened old new result =
    IsReverted opened.text.items old new result
IsRequestDone (Word word.Script) opened old new result =
    (new ≡ old) × HasScript opened old.text result
IsRequestDone other opened old new result =
    (new ≡ old) × HasAnswer (answer_in opened old.text other) result

-- whether a request asks that the session ends
abbrev pub is_quit : Asked → Bool
is_quit (Word word.Quit) = true
is_quit (Word word.QuitAnyway) = true
is_quit other = false

-- whether the session goes on after a request that was done or not
abbrev pub after_request : Asked → (is_done : Bool) → After
after_request asked is_done = if is_quit asked && is_done then Ends else GoesOn

-- ---- what is replied

-- The reply to a request that shows a file by this name: the lines of the answer and `ok`, if there is
-- memory for them; or why the request is not done.
abbrev pub IsReplyTo : (name : List ℕ) → Result (List ℕ) NotDone → (reply : List ℕ) → Type 0
IsReplyTo name (Ok text) reply =
    (reply ≡ answer_lines text ++ codes "ok\n") ⊎ (reply ≡ fault_text NoMemory name)
IsReplyTo name (Err why) reply = reply ≡ fault_text why name

-- A text that is no command was answered: it is no request, or it is this one.
abbrev pub IsOtherAnswered : Option Asked → Opened → (old : Shown (List ℕ)) → (reply : List ℕ) → After
    → (new : Shown (List ℕ)) → Type 0
IsOtherAnswered None opened old reply after new =
    (reply ≡ codes "fault not a command\n") × (after ≡ GoesOn) × (new ≡ old)
IsOtherAnswered (Some asked) opened old reply after new =
    (answer : Result (List ℕ) NotDone) × (name : List ℕ) × IsRequestDone asked opened old new answer
    × IsReplyTo name answer reply
    × (after ≡ after_request asked (is_ok answer))

-- This came of a text as a command, and it was answered.
abbrev IsCameAnswered : o.Executed → (text : List ℕ) → Opened → (old : Shown (List ℕ)) → (reply : List ℕ) → After
    → (new : Shown (List ℕ)) → Type 0
IsCameAnswered NoCommand text opened old reply after new =
    IsOtherAnswered (request_in text) opened old reply after new
IsCameAnswered came text opened old reply after new =
    (reply ≡ reply_to came) × (after ≡ GoesOn) × (new ≡ old)

-- A text was handled: it was executed as a command, and then it was answered.
abbrev pub IsHandled : (text : List ℕ) → Opened → (old : Shown (List ℕ)) → (reply : List ℕ) → After → (new : Shown (List ℕ))
    → Type 0
IsHandled text opened old reply after new =
    (came : o.Executed) × (executed : Shown (List ℕ)) × IsLineExecuted text old executed came
    × IsCameAnswered came text opened executed reply after new
