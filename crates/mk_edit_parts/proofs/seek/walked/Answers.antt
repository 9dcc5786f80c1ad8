use Rattle.std.proofs.Common.{◌≡◌, arith, drop, []}
use Rattle.std.proofs.lemmas.List.{drop_all}
use Rattle.mk_edit_parts.proofs.on_finding.SeekWindows.{walked-at, walked-first, walked-over}
use Rattle.mk_edit_parts.proofs.seek.walked.Goals as goal

pub windows-init : goal.windows-init
windows-init g c = walked-first _ _ _ _ _ c.nothing_seen-sought.ensures (c.iter-lines.ensures.admitted c.requires.faithful) c.requires.windows

pub noted_in-sought-requires : goal.noted_in-sought-requires
noted_in-sought-requires g c =
    let W = walked-at _ _ _ _ c.args.windows.now c.windows.window-index c.window-item.result c.windows-test.true c.window-item.is c.windows.invariant in
    record { faithful = c.requires.faithful; in_range = W.in_range; admitted = W.admitted; no_more = W.no_more }

pub windows-preserved : goal.windows-preserved
windows-preserved g c =
    (walked-at _ _ _ _ c.args.windows.now c.windows.window-index c.window-item.result c.windows-test.true c.window-item.is c.windows.invariant).next c.noted_in-sought.result c.noted_in-sought.ensures

pub returns-clause-sought : goal.returns-clause-sought
returns-clause-sought g c =
    let none : drop c.windows.window-index c.args.windows.now ≡ [] = drop_all c.windows.window-index c.args.windows.now (omega (arith, c.windows-test.false)) in
    walked-over _ _ _ _ _ c.requires.numbered none c.wanted-wanted.ensures c.requires.faithful c.windows.invariant
