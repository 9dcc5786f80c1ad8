use Rattle.std.proofs.Common.{◌≡◌, ◌∙◌, ◌==◌, ◌<◌, ◌^◌, refl, sym, ap, length, arith}
use Rattle.std.specs.List.{list_any}
use Rattle.mk_lines.specs.Bytes.{byte_kind}
use Rattle.mk_lines.specs.CellFaults.{is_stray_by}
use Rattle.mk_lines.proofs.StoredLemmas.{folded_stored, fold_ends-some, text_in_order}
use Rattle.mk_lines.proofs.cells.stored.Cells.folded.Goals as goal

pub invariant_of-result : goal.invariant_of-result
invariant_of-result g c =
    let fits : length c.args.text.now < 2 ^ 64 = omega arith in
    (text_in_order c.args.text.now c.args.ends.items fits c.requires.ends, (λ none. fold_ends-some c.args.text.now c.requires.some (sym c.requires.ends ∙ none)))

pub returns : goal.returns
returns g c =
    let joined = c.args.joined.items in
    let stray : c.has_stray_byte-stray.result ≡ list_any (λ b. is_stray_by (byte_kind b) (b == 0)) joined = c.has_stray_byte-stray.ensures ∙ ap (list_any (λ b. is_stray_by (byte_kind b) (b == 0))) c.deref.ensures.value in
    folded_stored c.args.text.now c.requires.some (length joined) joined c.args.ends.items c.args.bad_fold c.has_stray_byte-stray.result
    refl c.requires.joined c.requires.ends c.requires.bad_fold stray
