use Rattle.std.proofs.Common.{sym, ◌∙◌}
use Rattle.mk_edit.proofs.on_line_changes.Trimmed.{IsTrimmed, trimmed-none, trimmed-whole, walk-trimmed}
use Rattle.mk_edit.proofs.change_line.trimmed.Goals as goal

pub returns-then-not-ends_with_blank : goal.returns-then-not-ends_with_blank
returns-then-not-ends_with_blank c =
    sym (trimmed-whole c.args.text.now (sym c.begins_with_blank.ensures ∙ c.if-not-begins_with_blank.true) (sym c.ends_with_blank.ensures ∙ c.if-not-ends_with_blank.true))

pub returns-in_default : goal.returns-in_default
returns-in_default c = sym (trimmed-none c.args.text.now (sym c.words-words.ensures.words ∙ c.in_default.ensures.steps.0))

-- the range that is taken, when no word is left
told : (c : goal.In-None) → IsTrimmed c.args.text.now c.in-Some.first.start c.words.end
told c =
    walk-trimmed c.args.text.now c.words-words.result c.next.new.self c.into_iter-word-iterator.result c.words.word-iterator c.in-Some.first c.words.end
    c.words-words.ensures.words c.in-Some.ensures.steps c.into_iter-word-iterator.ensures.into_iter_gives c.words.invariant.2 c.in-None.ensures.steps.0

pub part-requires-clause-rises : goal.part-requires-clause-rises
part-requires-clause-rises c = (told c).rises

pub part-requires-clause-within : goal.part-requires-clause-within
part-requires-clause-within c = (told c).within

pub returns : goal.returns
returns c =
    let k : IsTrimmed c.args.text.now c.in-Some.first.start c.words.end =
    walk-trimmed c.args.text.now c.words-words.result c.next.new.self c.into_iter-word-iterator.result c.words.word-iterator c.in-Some.first c.words.end
    c.words-words.ensures.words c.in-Some.ensures.steps c.into_iter-word-iterator.ensures.into_iter_gives c.words.invariant.2 c.in-None.ensures.steps.0 in
    c.part.ensures ∙ k.text_is
