use Rattle.std.proofs.Common.{◌+◌, map, ap, sym, ◌∙◌, arith, drop}
use Rattle.std.proofs.lemmas.List.{drop_all, append-nil}
use Rattle.mk_script.specs.SeenFields.{bytes, seen}
use Rattle.mk_script.proofs.on_commands.FilledLemmas.{next-seen}
use Rattle.mk_script.proofs.on_commands.WordLemmas.{word-more, words-end}
use Rattle.mk_script.proofs.block_marks.words_among.Goals as goal

pub loop-field-preserved : goal.loop-field-preserved
loop-field-preserved c =
    let i = c.loop-field.field-index in
    let fields = c.args.fields.now in
    let few = c.push_word.ensures.few in
    record {
      few = omega (arith, few, c.loop-field.invariant.few);
      so_far =
          sym (word-more (map bytes c.loop-field.words.items) (map bytes c.push_word.new.words.items) c.loop-field.plain c.saturating_sub-plain.result (seen c.field-item.result) _ (map seen (drop (i + 1) fields)) _ c.saturating_sub-plain.ensures (next-seen fields i c.field-item.result c.loop-field-test.true c.field-item.is)
          c.word_of.ensures c.push_word.ensures.words)
          ∙ c.loop-field.invariant.so_far;
    }

pub returns : goal.returns
returns c =
    sym (append-nil (map bytes c.loop-field.words.items))
    ∙ (sym (words-end (map bytes c.loop-field.words.items) c.loop-field.plain _ (ap (map seen) (drop_all c.loop-field.field-index c.args.fields.now c.loop-field-test.false))) ∙ c.loop-field.invariant.so_far)
