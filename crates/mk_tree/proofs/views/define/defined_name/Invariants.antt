use Rattle.std.proofs.Common.{◌≡◌, length}
use Rattle.mk_lines.specs.Words.{words_in}
use Rattle.mk_class.specs.Keywords.{after_modifiers}
use Rattle.mk_tree.proofs.views.define.defined_name.Given as goal

abbrev pub invariant-modifiers : goal.invariant-modifiers
invariant-modifiers l = after_modifiers (words_in l.rest) ≡ after_modifiers (words_in l.text)

abbrev pub decreases-modifiers : goal.decreases-modifiers
decreases-modifiers l = length l.rest
