use Rattle.std.proofs.Common.{◌≡◌, ◌+◌, ◌∷◌, List, ℕ, Bor, add-one, drop, drop-cons, ◌<◌, length, get_or}
use Rattle.std.proofs.lemmas.List.{drop_all}
use Rattle.mk_script.proofs.on_written.WrittenFields.{field-more, fields-done}
use Rattle.mk_script.proofs.written_field.push_fields.Goals as goal

pub loop-field-preserved : goal.loop-field-preserved
loop-field-preserved g c =
    let fields = c.args.fields.now in
    let i = c.loop-field.field-index in
    field-more c.loop-field.line.items c.push_field.new.line.items _ _ (drop i fields) (drop (i + 1) fields) (next fields i _ c.loop-field-test.true) c.in_ok-push_field.ensures c.loop-field.invariant
  where
    next : (fields : List (Bor (List ℕ))) (i : ℕ) (d : Bor (List ℕ)) → i < length fields → drop i fields ≡ get_or fields i d ∷ drop (i + 1) fields
    next fields i d below = rw add-one (drop-cons fields i d below)

pub returns : goal.returns
returns g c = fields-done c.loop-field.line.items _ (drop c.loop-field.field-index c.args.fields.now) (drop_all c.loop-field.field-index c.args.fields.now c.loop-field-test.false) c.loop-field.invariant
