use Rattle.std.proofs.Common.{◌≡◌, ◌++◌}
use Rattle.mk_tree.specs.LocatedLines.{located_text}
use Rattle.mk_tree.proofs.views.text.text_of.Given as goal

abbrev pub invariant-lines : goal.invariant-lines
invariant-lines g l = l.text.items ++ located_text l.line-iterator ≡ located_text l.doc
