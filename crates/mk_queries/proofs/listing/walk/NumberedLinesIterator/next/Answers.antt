use Rattle.std.proofs.Common.{◌==◌, refl, ap, ◌∙◌, ◌+◌, count_by}
use Rattle.mk_class.specs.Contexts.{conditionals_after_located}
use Rattle.mk_tree.specs.Trees.{line_view}
use Rattle.mk_queries.proofs.listing.WalkLemmas.{passed, handed}
use Rattle.mk_queries.proofs.listing.walk.NumberedLinesIterator.next.Goals as goal

pub invariant_of-self-2 : goal.invariant_of-self-2
invariant_of-self-2 g c =
    let p = c.self.inside.next in
    passed c.self.inside.doc.now c.self.inside.lines c.next.new.self (line_view c.in_ok-line.line.now) p
    (record { index = p.index + 1; number = p.number + c.line_feeds.result; conditionals = c.conditionals_after.result })
    c.self.invariant c.in_ok-line.ensures.steps refl
    (ap (λ k. p.number + k) (c.line_feeds.ensures ∙ ap (count_by (λ b. b == 10)) c.bytes.ensures.bytes))
    (c.conditionals_after.ensures ∙ ap (conditionals_after_located p.conditionals) c.class.ensures)

pub returns-clause-steps : goal.returns-clause-steps
returns-clause-steps g c =
    handed c.args.self.now c.self.inside.doc.now c.self.inside.lines c.next.new.self (line_view c.in_ok-line.line.now) c.self.inside.next
    c.self.view_is c.self.invariant.0 c.self.invariant.1 c.in_ok-line.ensures.steps
