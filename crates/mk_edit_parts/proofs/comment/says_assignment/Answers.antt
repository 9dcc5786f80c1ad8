use Rattle.std.proofs.Common.{sym, ap, ◌∙◌}
use Rattle.mk_edit_language.specs.Comments.{says_assignment}
use Rattle.mk_edit_parts.proofs.CommentLemmas.{says-begun, says-nothing, says-behind}
use Rattle.mk_edit_parts.proofs.comment.says_assignment.Goals as goal

pub returns-in_default : goal.returns-in_default
returns-in_default c = sym (c.modifiers.invariant ∙ says-nothing c.args.name.now c.modifiers.rest.now (sym c.begins_assignment.ensures ∙ c.modifiers-test.true) c.in_default.ensures)

pub modifiers-preserved : goal.modifiers-preserved
modifiers-preserved c =
    let n = c.args.name.now in
    c.modifiers.invariant ∙ (says-behind n c.modifiers.rest.now (sym c.begins_assignment.ensures ∙ c.modifiers-test.true) c.in-Some.ensures.0 ∙ ap (says_assignment n 0) (sym c.in-Some.ensures.1))

pub returns : goal.returns
returns c = sym (c.modifiers.invariant ∙ says-begun c.args.name.now c.modifiers.rest.now (sym c.begins_assignment.ensures ∙ c.modifiers-test.false))
