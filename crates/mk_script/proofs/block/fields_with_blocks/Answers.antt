use Rattle.std.proofs.Common.{◌+◌, ◌∷◌, [], refl, map, ap, Some, sym, ◌∙◌, arith, drop, length}
use Rattle.std.proofs.lemmas.List.{drop_all, map-append}
use Rattle.mk_script.specs.SeenFields.{field_text, seen}
use Rattle.mk_script.specs.BlockReading.{filled_fields}
use Rattle.mk_script.proofs.on_commands.FilledLemmas.{put_texts, count-seen, next-seen, fill-start, fill-more, fill-end}
use Rattle.mk_script.proofs.block.fields_with_blocks.Goals as goal

pub loop-field-init : goal.loop-field-init
loop-field-init c =
    let found = c.as_slice-found.result.now in
    let below = c.args.below.now.lines in
    let read = c.in_ok-fields.ensures ∙ ap (λ fs. Some (map seen fs)) (sym c.as_slice-found.ensures.value) in
    let counted = count-seen found ∙ sym c.plain_fields-plain.ensures in
    record {
      as_many = ap length c.new-all.ensures;
      few = c.as_slice-found.ensures.fits;
      so_far =
          ap (λ ts. put_texts (map field_text ts) (filled_fields c.plain_fields-plain.result (map seen found) below)) c.new-all.ensures
          ∙ sym (fill-start c.args.line.now (map seen found) below read ∙ ap (λ n. put_texts [] (filled_fields n (map seen found) below)) counted);
      number = refl;
    }

pub loop-field-preserved : goal.loop-field-preserved
loop-field-preserved c =
    let i = c.loop-field.field-index in
    let found = c.as_slice-found.result.now in
    let len = c.push.ensures.len in
    record {
      as_many = omega (arith, len, c.loop-field.invariant.as_many);
      few = c.loop-field.invariant.few;
      so_far =
          sym (fill-more (map field_text c.loop-field.all.items) (map field_text c.push.new.self.items) c.loop-field.plain c.saturating_sub-plain.result (seen c.field-item.result) _ (map seen (drop (i + 1) found)) c.loop-field.below.lines c.filled.new.below.lines
          (field_text c.in_ok-whole.whole) c.saturating_sub-plain.ensures (next-seen found i c.field-item.result c.loop-field-test.true c.field-item.is) c.in_ok-whole.ensures.field (ap (map field_text) c.push.ensures.items ∙ map-append field_text c.loop-field.all.items (c.in_ok-whole.whole ∷ [])))
          ∙ c.loop-field.invariant.so_far;
      number = c.filled.ensures.number ∙ c.loop-field.invariant.number;
    }

pub returns-clause-fields : goal.returns-clause-fields
returns-clause-fields c =
    sym c.loop-field.invariant.so_far
    ∙ fill-end (map field_text c.loop-field.all.items) c.loop-field.plain _ c.loop-field.below.lines (ap (map seen) (drop_all c.loop-field.field-index c.as_slice-found.result.now c.loop-field-test.false))
