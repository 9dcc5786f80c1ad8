use Rattle.std.proofs.Common.{rules, length, ◌≤◌, ◌∙◌, sym, arith}
use Rattle.mk_lines.proofs.UnitWalkLemmas.{words_left-next, words_left-none}
use Rattle.mk_lines.proofs.iter.WordsIterator.next.Goals as goal

pub returns-then-is_empty-clause-steps : goal.returns-then-is_empty-clause-steps
returns-then-is_empty-clause-steps c =
    let h = words_left-none c.self.inside.text_len c.self.inside.rest.now c.after_blanks-self-inside.result.now c.after_blanks-self-inside.ensures.rest (sym c.is_empty.ensures ∙ c.if-is_empty.true) c.self.invariant in
    (sym c.self.view_is ∙ h.0, h.1)

pub returns-clause-steps : goal.returns-clause-steps
returns-clause-steps c =
    let i : length c.self.inside.rest.now ≤ c.self.inside.text_len = c.self.invariant in
    sym c.self.view_is
    ∙ words_left-next c.self.inside.text_len c.self.inside.rest.now c.after_blanks-self-inside.result.now c.after_word-self-inside.result.now c.after_blanks-self-inside.ensures.rest
    (sym c.is_empty.ensures ∙ c.if-is_empty.false) c.after_word-self-inside.ensures.rest i (omega arith)

pub returns-clause-goes : goal.returns-clause-goes
returns-clause-goes c = rw (returns-clause-steps c) (search rules)
