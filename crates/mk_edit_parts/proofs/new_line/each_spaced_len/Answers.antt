use Rattle.std.proofs.Common.{ap, arith, length}
use Rattle.std.proofs.Common.{length-append}
use Rattle.mk_lines.specs.Words.{words_in}
use Rattle.mk_lines.specs.Spacing.{each_after_space}
use Rattle.mk_edit_parts.proofs.on_new_lines.NewLineTexts.{cut-lengths}
use Rattle.mk_edit_parts.proofs.new_line.each_spaced_len.Goals as goal

pub overflow_add-count-in-Some : goal.overflow_add-count-in-Some
overflow_add-count-in-Some c =
    let cut = cut-lengths c.words.rest.now c.in-Some.word.now c.in-Some.after.now c.in-Some.ensures.joined in
    omega (arith, c.words.invariant.few, cut, c.in-Some.ensures.shorter)

pub words-preserved : goal.words-preserved
words-preserved c =
    let rest = c.words.rest.now in
    let word = c.in-Some.word.now in
    let after = c.in-Some.after.now in
    let cut = cut-lengths rest word after c.in-Some.ensures.joined in
    let counted = ap (λ ws. length (each_after_space ws)) c.in-Some.ensures.words in
    let apart = length-append word (each_after_space (words_in after)) in
    record {
      number = omega (arith, c.words.invariant.number, counted, apart);
      few = omega (arith, c.words.invariant.few, cut, c.in-Some.ensures.shorter);
    }
