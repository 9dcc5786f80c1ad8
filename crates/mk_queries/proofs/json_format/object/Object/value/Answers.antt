use Rattle.std.proofs.Common.{◌≡◌, false, sym}
use Rattle.std.specs.Str.{is_utf8}
use Rattle.std.proofs.lemmas.Bool.{false_from_ne_true}
use Rattle.std.proofs.lemmas.Str.{is_utf8-from_IsUtf8, IsUtf8-from_is_utf8}
use Rattle.mk_queries.proofs.json_format.object.Object.value.Goals as goal

pub returns-in-Ok-clause-tokens : goal.returns-in-Ok-clause-tokens
returns-in-Ok-clause-tokens g c =
    rw (is_utf8-from_IsUtf8 c.args.text.now c.in-Ok.ensures.cases.1, sym c.in-Ok.ensures.cases.0) c.string.ensures.ok

pub returns-in-Err-clause-tokens : goal.returns-in-Err-clause-tokens
returns-in-Err-clause-tokens g c =
    let t = c.args.text.now in
    let other : is_utf8 t ≡ false = false_from_ne_true (is_utf8 t) (λ e. c.in-Err.ensures.cases.0 (IsUtf8-from_is_utf8 t e)) in
    rw other c.base64.ensures.tokens
