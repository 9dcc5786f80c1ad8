use Rattle.mk_lines.proofs.on_lists.RangeLemmas.{line_ranges-text, unit_ranges-text, word_ranges-text}
use Rattle.mk_lines.proofs.laws.ranges_cut.Goals as goal

pub returns : goal.returns
returns c text = (line_ranges-text text, unit_ranges-text text, word_ranges-text text)
