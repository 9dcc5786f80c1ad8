-- The text says what the rest says.
use Rattle.std.proofs.Common.{◌≡◌, length}
use Rattle.mk_edit_language.specs.Comments.{says_assignment}
use Rattle.mk_edit_parts.proofs.comment.says_assignment.Given as goal

abbrev pub invariant-modifiers : goal.invariant-modifiers
invariant-modifiers l = says_assignment l.name 0 l.text ≡ says_assignment l.name 0 l.rest

abbrev pub decreases-modifiers : goal.decreases-modifiers
decreases-modifiers l = length l.rest
