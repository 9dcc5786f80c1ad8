use Rattle.std.proofs.Common.{arith, refl}
use Rattle.mk_class.specs.ClassedLines.{classed_lines}
use Rattle.mk_tree.specs.LocatedLines.{located_text}
use Rattle.mk_edit_parts.proofs.on_finding.SeekLemmas.{none-sought, last-sought}
use Rattle.mk_edit_parts.proofs.seek.last_within.Goals as goal

pub returns-then-all-eq0 : goal.returns-then-all-eq0
returns-then-all-eq0 g c = none-sought (classed_lines (located_text c.args.doc.now)) c.args.name.now c.walked-all.result c.walked-all.ensures.sought c.if-all-eq0.true

pub returns : goal.returns
returns g c =
    last-sought (classed_lines (located_text c.args.doc.now)) c.args.name.now c.walked-all.result.count c.walked-all.result c.walked-sought.result c.walked-all.ensures.sought
    (omega (arith, c.if-all-eq0.false)) refl c.walked-sought.ensures.sought
