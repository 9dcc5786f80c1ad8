use Rattle.std.proofs.Common.{◌≡◌, ◌++◌, ◌+◌, ◌∷◌, [], ℕ, List, ap, ◌∙◌, add-one, drop, drop-cons, append_assoc, slice_index_or}
use Rattle.std.proofs.lemmas.List.{drop_all}
use Rattle.mk_script.specs.Fields.{escaped}
use Rattle.mk_script.proofs.on_written.WrittenFields.{escaped-end, escaped-more}
use Rattle.mk_script.proofs.written_field.push_quoted.Goals as goal

pub loop-byte-init : goal.loop-byte-init
loop-byte-init g c = ap (λ (t : List ℕ). t ++ escaped c.args.field.now) c.in_ok-extend_from_slice.ensures.items ∙ append_assoc c.args.line.now.items (34 ∷ []) (escaped c.args.field.now)

pub loop-byte-preserved : goal.loop-byte-preserved
loop-byte-preserved g c =
    let field = c.args.field.now in
    let i = c.loop-byte.byte-index in
    let b = slice_index_or field i 0 in
    let left : drop i field ≡ b ∷ drop (i + 1) field = rw add-one (drop-cons field i 0 c.loop-byte-test.true) in
    escaped-more c.loop-byte.line.items c.push_escaped.new.line.items (drop i field) (drop (i + 1) field) _ b left c.in_ok-push_escaped.ensures c.loop-byte.invariant

pub returns : goal.returns
returns g c =
    escaped-end c.args.line.now.items c.loop-byte.line.items c.extend_from_slice-2.new.self.items c.args.field.now (drop c.loop-byte.byte-index c.args.field.now)
    (drop_all c.loop-byte.byte-index c.args.field.now c.loop-byte-test.false) c.in_ok-extend_from_slice-2.ensures.items c.loop-byte.invariant
