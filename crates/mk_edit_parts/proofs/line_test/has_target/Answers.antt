use Rattle.std.proofs.Common.{◌∙◌, sym}
use Rattle.mk_tree.specs.Trees.{line_view}
use Rattle.mk_edit_parts.proofs.on_finding.PartLemmas.{seen-header, seen-target_assign}
use Rattle.mk_edit_parts.proofs.line_test.has_target.Goals as goal

pub has_word_before-requires : goal.has_word_before-requires
has_word_before-requires g c = record { within = (seen-header (line_view c.args.line.now) c.requires.classed _ (sym c.requires.class ∙ c.in-Header.is)).2.targets.within }

pub has_word_before-requires-in-TargetAssign : goal.has_word_before-requires-in-TargetAssign
has_word_before-requires-in-TargetAssign g c = record { within = (seen-target_assign (line_view c.args.line.now) c.requires.classed _ (sym c.requires.class ∙ c.in-TargetAssign.is)).2.targets.within }
