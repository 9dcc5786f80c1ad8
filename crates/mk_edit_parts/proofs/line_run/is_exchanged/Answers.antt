use Rattle.std.proofs.Common.{◌≡◌, ◌∙◌, sym, subst, false}
use Rattle.mk_class.specs.ClassedLines.{classed_lines}
use Rattle.mk_tree.specs.LocatedLines.{located_text}
use Rattle.mk_edit_language.specs.LineRuns.{block_lines, runs}
use Rattle.mk_edit_parts.specs.LineRunsFound.{block_seen, numbered}
use Rattle.mk_edit_parts.proofs.on_line_runs.RunsExchanged.{each_in_run, exchanged-none, exchanged-nothing, exchanged-one}
use Rattle.mk_edit_parts.proofs.line_run.is_exchanged.Goals as goal

pub returns-in_default : goal.returns-in_default
returns-in_default g c = exchanged-none (block_seen c.args.new) (block_lines c.args.block.now) (classed_lines (located_text c.args.doc.now)) c.args.nth c.args.matches c.requires.matches c.in_default.is

pub returns-in_default-new : goal.returns-in_default-new
returns-in_default-new g c =
    let ls = classed_lines (located_text c.args.doc.now) in
    let b = block_lines c.args.block.now in
    subst (λ o. false ≡ each_in_run (block_seen o) ls (numbered c.args.nth (runs b ls))) (sym c.in_default-new.is) (exchanged-nothing c.args.block.now ls c.args.nth c.args.matches c.in-Some.run' c.requires.matches c.in-Some.is)

pub returns-then-is_one : goal.returns-then-is_one
returns-then-is_one g c =
    let ls = classed_lines (located_text c.args.doc.now) in
    let b = block_lines c.args.block.now in
    let one = exchanged-one (block_lines c.in-Some-new.new.now) b ls c.args.nth c.args.matches c.in-Some.run' c.is_in_run.result c.requires.matches c.in-Some.is (sym c.is_one.ensures ∙ c.if-is_one.true) c.is_in_run.ensures in
    subst (λ o. c.is_in_run.result ≡ each_in_run (block_seen o) ls (numbered c.args.nth (runs b ls))) (sym c.in-Some-new.is) one
