use Rattle.std.proofs.Common.{◌∙◌, sym}
use Rattle.mk_tree.specs.Trees.{line_view}
use Rattle.mk_edit_parts.proofs.on_finding.PartLemmas.{seen-header}
use Rattle.mk_edit_parts.proofs.line_test.is_rule_for.Goals as goal

pub has_word_before-requires : goal.has_word_before-requires
has_word_before-requires g c = record { within = (seen-header (line_view c.args.line.now) c.requires.classed _ (sym c.requires.class ∙ c.in-Header.is)).2.targets.within }
