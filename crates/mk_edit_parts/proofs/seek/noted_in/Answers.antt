use Rattle.std.proofs.Common.{◌≡◌, arith}
use Rattle.mk_tree.specs.Trees.{line_view}
use Rattle.mk_edit_parts.specs.AddressViews.{address_seen}
use Rattle.mk_edit_parts.specs.Seeking.{may_mean}
use Rattle.mk_edit_parts.specs.SeekWalks.{noted}
use Rattle.mk_edit_parts.proofs.on_finding.SeekWindows.{noted-first, noted-on}
use Rattle.mk_edit_parts.proofs.seek.noted_in.Goals as goal

pub lines-init : goal.lines-init
lines-init g c =
    noted-first _ _ c.args.doc.now _ (record c.args.sought { end = c.args.window.place }) c.requires.faithful (omega (arith, c.requires.in_range)) c.requires.admitted c.requires.no_more c.lines_from-lines.ensures

pub lines-preserved : goal.lines-preserved
lines-preserved g c =
    let l = line_view c.in-Some.line.now in
    let on : c.noted-seen.result ≡ noted (may_mean (address_seen c.args.address)) c.args.wanted l c.lines.seen = cc in
    noted-on _ _ _ _ c.lines.seen _ _ _ _ l _ c.lines.invariant c.in-Some.ensures.steps on c.noted-seen.ensures.no_more
