use Rattle.std.proofs.Common.{◌≡◌, ◌∙◌, ℕ, List, [], Option, Some, None, ap, append-nil, arith, subst, sym}
use Rattle.std.specs.Prelude.{IfSome}
use Rattle.std.specs.Io.KnownBytes.{Appends}
use Rattle.mk_lines.specs.Device.{AppendsPrefix}
use Rattle.mk_tree.specs.LocatedLines.{located_text}
use Rattle.mk_session.specs.Sessions.{Seen}
use Rattle.mk_repl.specs.QueryTexts.{answer_refusal, answer_text}
use Rattle.mkedit.proofs.query.answer.Goals as goal

-- what holds of a text holds of the bytes that a source told, if it told them
of_told : (bytes : Option (List ℕ)) (text : List ℕ) (P : List ℕ → Type 0) → IfSome bytes (λ b. text ≡ b) → P text → IfSome bytes P
of_told None text P h p = tt
of_told (Some b) text P h p = subst P h p

-- a sink that nothing was written into has a prefix of any answer
nothing : (out : Option (List ℕ)) → Appends out out []
nothing None = tt
nothing (Some bytes) = sym (append-nil bytes)

of_nothing : (answer : Option (List ℕ)) (out : Option (List ℕ)) → IfSome answer (AppendsPrefix out out)
of_nothing None out = tt
of_nothing (Some text) out = (0, omega (arith), nothing out)

untold : (bytes : Option (List ℕ)) (answer : List ℕ → Option (List ℕ)) (out : Option (List ℕ)) → IfSome bytes (λ text. IfSome (answer text) (AppendsPrefix out out))
untold None answer out = tt
untold (Some text) answer out = of_nothing (answer text) out

pub returns-in_err-session-clause-prefix : goal.returns-in_err-session-clause-prefix
returns-in_err-session-clause-prefix g c =
    untold (g.R.ByteSource.remaining c.args.makefile.now) (λ text. answer_text c.args.question text) (g.W.ByteSink.contents c.args.out.now)

pub returns-clause-refused : goal.returns-clause-refused
returns-clause-refused g c = λ refusal is.
    let read : located_text c.doc.result.now ≡ c.in_ok-text.text.items = c.doc.ensures.bytes ∙ ap (λ (s : Seen). s.shown.text) c.in_ok-session.ensures.opened in
    of_told (g.R.ByteSource.remaining c.args.makefile.now) c.in_ok-text.text.items (λ t. answer_refusal c.args.question t ≡ Some refusal) c.in_ok-text.ensures.bytes
    (subst (λ t. answer_refusal c.args.question t ≡ Some refusal) read (c.put_answer-answered.ensures.refused refusal is))
