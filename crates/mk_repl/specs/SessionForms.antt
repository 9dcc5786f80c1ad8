-- The answers of a session in the form that is asked for.
-- Told in docs/PROTOCOL.md, "Answers in JSON".
use Rattle.std.specs.Prelude.{ℕ, ◌||◌, Bool, true, false, List, Option, Some, None}
use Rattle.mk_cli.specs.declared.request.Form.{Form}
use Rattle.mk_cli.specs.declared.request.Form.TheVariants as form
use Rattle.mk_cli.specs.declared.request.SessionWords.{SessionWords}

-- an answer for a person, in a form; of lines of JSON no definition says the text
abbrev pub in_form : Form → List ℕ → Option (List ℕ)
in_form form.Text text = Some text
in_form form.Json text = None

-- whether an answer in this form is lines of JSON
abbrev is_json : Form → Bool
is_json form.Text = false
is_json form.Json = true

-- whether the replies are those of the protocol, also at a terminal
abbrev pub is_by_protocol : SessionWords → Bool
is_by_protocol words = words.by_protocol || is_json words.form
