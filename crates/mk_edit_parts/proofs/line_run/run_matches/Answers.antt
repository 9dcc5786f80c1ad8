use Rattle.std.proofs.Common.{◌≡◌, arith, drop, []}
use Rattle.std.proofs.lemmas.List.{drop_all}
use Rattle.mk_edit_language.specs.LineRuns.{block_lines}
use Rattle.mk_edit_parts.proofs.on_line_runs.RunsMatched.{matched-start, matched-at, matched-over, found-within, found-place}
use Rattle.mk_edit_parts.proofs.line_run.run_matches.Goals as goal

pub windows-init : goal.windows-init
windows-init g c = matched-start c.args.block.now c.wanted-wanted.result c.args.doc.now c.args.windows.now c.requires.faithful (c.iter-lines.ensures.admitted c.requires.faithful) c.requires.windows

pub matches_in-matches-requires : goal.matches_in-matches-requires
matches_in-matches-requires g c =
    let M = matched-at c.args.block.now _ c.args.doc.now _ c.args.windows.now c.windows.window-index c.window-item.result c.windows-test.true c.window-item.is c.windows.invariant in
    record { same = c.same_lines-same.ensures; in_range = M.in_range; admitted = M.admitted; few = M.few }

pub windows-preserved : goal.windows-preserved
windows-preserved g c =
    (matched-at c.args.block.now _ c.args.doc.now _ c.args.windows.now c.windows.window-index c.window-item.result c.windows-test.true c.window-item.is c.windows.invariant).next c.matches_in-matches.result c.matches_in-matches.ensures

pub returns : goal.returns
returns g c =
    let d = c.args.doc.now in
    let b = block_lines c.args.block.now in
    let none : drop c.windows.window-index c.args.windows.now ≡ [] = drop_all c.windows.window-index c.args.windows.now (omega (arith, c.windows-test.false)) in
    let M = matched-over c.args.block.now c.args.nth c.wanted-wanted.result d c.windows.matches _ none c.wanted-wanted.ensures c.requires.faithful c.windows.invariant in
    record { matches = M; within = found-within d b c.args.nth c.windows.matches c.requires.faithful M; place = found-place d b c.args.nth c.windows.matches M }
