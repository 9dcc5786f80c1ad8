use Rattle.std.proofs.Common.{◌∙◌, ap, sym, not}
use Rattle.mk_class.specs.ClassedLines.{classed_lines}
use Rattle.mk_tree.specs.LocatedLines.{located_text}
use Rattle.mk_edit_language.specs.Edits.{OfRun}
use Rattle.mk_edit_language.specs.LineRuns.{block_lines}
use Rattle.mk_edit_language.specs.declared.refusal.Refusal.TheVariants.{NoSuch, Already}
use Rattle.mk_edit_parts.specs.LineRunsFound.{block_seen}
use Rattle.mk_edit_parts.proofs.on_line_runs.SiteCauses.{site-refused, missing-run, exchanged-run, not_one-run, one-run}
use Rattle.mk_edit_parts.proofs.on_line_runs.SiteStretches.{run-missing, run-there, stretch-in_range, stretch-place}
use Rattle.mk_edit_parts.proofs.site.run_exchanged.Goals as goal

pub returns-then-is_none-clause-refused : goal.returns-then-is_none-clause-refused
returns-then-is_none-clause-refused g c =
    let t = located_text c.args.doc.now in
    let o = block_lines c.args.old.now in
    let ts = block_seen c.args.block in
    let missing = run-missing (classed_lines t) o c.args.nth c.run_matches-matches.result c.run_matches-matches.ensures.matches (c.is_none.ensures ∙ ap not c.if-is_none.true) in
    site-refused t (OfRun c.args.nth o) ts NoSuch (missing-run c.args.nth o ts t c.requires.unrefused missing)

pub returns-then-is_exchanged-clause-refused : goal.returns-then-is_exchanged-clause-refused
returns-then-is_exchanged-clause-refused g c =
    let t = located_text c.args.doc.now in
    let o = block_lines c.args.old.now in
    let ts = block_seen c.args.block in
    let there = run-there (classed_lines t) o c.args.nth c.run_matches-matches.result c.run_matches-matches.ensures.matches (c.is_none.ensures ∙ ap not c.if-is_none.false) in
    site-refused t (OfRun c.args.nth o) ts Already (exchanged-run c.args.nth o ts t c.requires.unrefused there (sym c.if-is_exchanged.true ∙ c.is_exchanged.ensures))

pub returns-in-Ok-clause-found : goal.returns-in-Ok-clause-found
returns-in-Ok-clause-found g c =
    let d = c.args.doc.now in
    let t = located_text d in
    let o = block_lines c.args.old.now in
    let ts = block_seen c.args.block in
    let O = c.in-Ok.ensures.found (classed_lines t) o c.run_matches-matches.ensures.matches in
    record {
      stretch = O.stretch;
      found_is = O.picked_is;
      meant = O.meant;
      in_range = stretch-in_range d O.stretch c.in-Ok.run' c.requires.faithful O.meant;
      place_of = stretch-place d O.stretch c.in-Ok.run' O.meant;
      unrefused = one-run c.args.nth o ts t c.requires.unrefused (sym c.if-is_exchanged.false ∙ c.is_exchanged.ensures) O.is_there O.is_one;
    }

pub returns-in-Err-clause-refused : goal.returns-in-Err-clause-refused
returns-in-Err-clause-refused g c =
    let t = located_text c.args.doc.now in
    let o = block_lines c.args.old.now in
    let ts = block_seen c.args.block in
    let none = c.in-Err.ensures.refused (classed_lines t) o c.run_matches-matches.ensures.matches in
    site-refused t (OfRun c.args.nth o) ts c.in-Err.refusal
    (not_one-run c.args.nth o ts t c.in-Err.refusal c.requires.unrefused (sym c.if-is_exchanged.false ∙ c.is_exchanged.ensures) none)
