-- What comes of a request to a makefile that is open, in the functions of the session.
use Rattle.std.specs.Prelude.{◌≡◌, ⊤, ℕ, Bool, true, false, List, [], Option, Some, None, Result, Ok, Err, OnOk, is_ok}
use Rattle.mk_repl.specs.Quits.{IsLeft, MayQuit, left_with}
use Rattle.mk_repl.specs.Requests.{Asked, Of, Word}
use Rattle.mk_repl.specs.SessionReplies.{HasAnswer, HasScript, IfScript, IsRequestDone, answer_in}
use Rattle.mk_repl.specs.declared.not_done.NotDone.{NotDone}
use Rattle.mk_repl.specs.declared.request.RequestOf.TheVariants as of
use Rattle.mk_repl.specs.declared.request.RequestWord.TheVariants as word
use Rattle.mk_repl.specs.declared.server.Server.{Server}

-- whether a request changes neither the session nor a file, and does not end the session
abbrev is_question : Asked → Bool
is_question (Of of.Write file) = false
is_question (Word word.Write) = false
is_question (Word word.WriteAnyway) = false
is_question (Word word.Revert) = false
is_question (Word word.Quit) = false
is_question (Word word.QuitAnyway) = false
is_question other = true

-- the text of an answer that is empty where the request is done
abbrev empty_if_done : Result (Unit {0}) NotDone → Result (List ℕ) NotDone
empty_if_done (Ok u) = Ok []
empty_if_done (Err why) = Err why

-- what holds of `quit`
abbrev IfQuit : Asked → Type 0 → Type 0
IfQuit (Word word.Quit) P = P
IfQuit other P = ⊤

-- A question to a server was answered.
pub record IsAnswered (asked : Asked) (server : Server) (result : Result (List ℕ) NotDone) : Type 0 where
  pub answer : HasAnswer (answer_in server.opened server.session.shown.text asked) result
  pub script : IfScript asked (HasScript server.opened server.session.shown.text result)

-- This came of a request to a server.
pub record IsDone (asked : Asked) (old new : Server) (result : Result (List ℕ) NotDone) : Type 0 where
  pub done : IsRequestDone asked old.opened old.session.shown new.session.shown result
  pub opened : new.opened ≡ old.opened
  pub quit : IfQuit asked (OnOk result
      (MayQuit old.is_warned (left_with old.opened old.written) new.session.shown.text))
  pub left : IsLeft old.opened asked (is_ok result) new.session.shown.text old.written new.written

-- A request that is no question came to this; or it is a question, and nothing has changed.
abbrev pub IsChange : Asked → (old new : Server) → Option (Result (Unit {0}) NotDone) → Type 0
IsChange asked old new (Some changed) = IsDone asked old new (empty_if_done changed)
IsChange asked old new None = (is_question asked ≡ true) × (new ≡ old)
