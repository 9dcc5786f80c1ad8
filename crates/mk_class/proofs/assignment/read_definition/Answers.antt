use Rattle.std.proofs.Common.{length, ◌-◌}
use Rattle.mk_class.proofs.AssignmentLemmas.{definition_read, definition_unnamed}
use Rattle.mk_class.proofs.assignment.read_definition.Goals as goal

pub returns-then-after_name-named : goal.returns-then-after_name-named
returns-then-after_name-named c =
    definition_unnamed (c.args.len - length c.args.text.now) c.args.text.now c.after_blanks-named.result.now c.after_name-after_name.result.now c.after_blanks-named.ensures.rest
    c.after_name-after_name.ensures.rest c.if-after_name-named.true

pub returns : goal.returns
returns c =
    definition_read c.args.len c.args.text.now c.after_blanks-named.result.now c.after_name-after_name.result.now c.after_blanks.result.now c.in_ok-flavor.operand.now c.after_blanks-value.result.now
    c.blanks_at_end-after_value.result.now c.in_ok-flavor.flavor c.requires c.after_blanks-named.ensures.rest c.after_name-after_name.ensures.rest c.after_blanks.ensures.rest (c.in_ok-flavor.ensures).found
    c.after_blanks-value.ensures.rest c.blanks_at_end-after_value.ensures.rest c.if-after_name-named.false
