use Rattle.mk_class.specs.ClassedLines.{classed_lines}
use Rattle.mk_tree.specs.LocatedLines.{located_text}
use Rattle.mk_edit_parts.proofs.on_finding.FindLemmas.{some-assigns}
use Rattle.mk_edit_parts.proofs.find.is_assigned.Goals as goal

pub returns : goal.returns
returns g c = some-assigns c.args.name.now (classed_lines (located_text c.args.doc.now)) c.seek.result.count c.seek.ensures.count_is
