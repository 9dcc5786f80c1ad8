use Rattle.std.proofs.Common.{length, ◌<◌, ◌∙◌, sym, arith}
use Rattle.mk_lines.proofs.UnitWalkLemmas.{words-none, words-cut, after_word-shorter}
use Rattle.mk_lines.proofs.word.split_first_word.Goals as goal

pub returns-then-is_empty-clause-words : goal.returns-then-is_empty-clause-words
returns-then-is_empty-clause-words c = words-none c.args.text.now c.after_blanks-words.result.now c.after_blanks-words.ensures.rest (sym c.is_empty.ensures ∙ c.if-is_empty.true)

pub returns-clause-words : goal.returns-clause-words
returns-clause-words c =
    words-cut c.args.text.now c.after_blanks-words.result.now c.after_word-after.result.now c.split_at.result.0.now c.split_at.result.1.now c.after_blanks-words.ensures.rest
    (sym c.is_empty.ensures ∙ c.if-is_empty.false) c.after_word-after.ensures.rest c.split_at.ensures.front c.split_at.ensures.back

pub returns-clause-shorter : goal.returns-clause-shorter
returns-clause-shorter c =
    let h : length c.after_word-after.result.now < length c.after_blanks-words.result.now =
    after_word-shorter c.args.text.now c.after_blanks-words.result.now c.after_word-after.result.now c.after_blanks-words.ensures.rest (sym c.is_empty.ensures ∙ c.if-is_empty.false) c.after_word-after.ensures.rest in
    omega (arith, c.after_blanks-words.ensures.within, c.split_at.ensures.back_len)
