use Rattle.std.proofs.Common.{Some, None}
use Rattle.mk_edit_language.specs.Addresses.{Variable}
use Rattle.mk_edit_parts.specs.Candidates.{seen_for}
use Rattle.mk_edit_parts.proofs.on_finding.SeekWindows.{walked-at}
use Rattle.mk_edit_parts.proofs.candidates.candidates_within.Goals as goal

pub list_in-requires : goal.list_in-requires
list_in-requires g c =
    let W = walked-at (Some (Variable None c.args.name.now)) 0 _ _ c.args.windows.now c.windows.window-index c.window-item.result c.windows-test.true c.window-item.is (c.windows.invariant 0) in
    record { faithful = c.requires.faithful; in_range = W.in_range; admitted = W.admitted; no_more = W.no_more }

pub windows-preserved : goal.windows-preserved
windows-preserved g c = λ w.
    (walked-at (Some (Variable None c.args.name.now)) w _ _ c.args.windows.now c.windows.window-index c.window-item.result c.windows-test.true c.window-item.is (c.windows.invariant w)).next
    (seen_for w c.list_in.new.self) (c.in_ok-list_in.ensures w)
