use Rattle.std.proofs.Common.{◌≡◌, ◌∙◌, sym, arith, Some}
use Rattle.std.specs.Prelude.{Err}
use Rattle.mk_class.specs.ClassedLines.{classed_lines}
use Rattle.mk_tree.specs.LocatedLines.{located_text}
use Rattle.mk_tree.specs.Trees.{line_view}
use Rattle.mk_edit_language.specs.Addresses.{Rule}
use Rattle.mk_edit_language.specs.Edits.{OfRuleRun, ExchangeLines}
use Rattle.mk_edit_language.specs.Refusals.{spans}
use Rattle.mk_edit_language.specs.RuleRuns.{run_or_header}
use Rattle.mk_edit_language.specs.declared.refusal.Refusal.TheVariants.{Already, SharedRule, Straddles}
use Rattle.mk_edit_parts.specs.Found.{IsPicked}
use Rattle.mk_edit_parts.specs.LineRunsFound.{block_seen}
use Rattle.mk_edit_parts.proofs.CauseLemmas.{of-error}
use Rattle.mk_edit_parts.proofs.on_finding.PlaceLemmas.{faithful-at}
use Rattle.mk_edit_parts.proofs.on_line_runs.RulesExchanged.{HasRun, gone, rule-shared, rule-split, rule-run}
use Rattle.mk_edit_parts.proofs.on_line_runs.SiteCauses.{site-refused, not_one-rule}
use Rattle.mk_edit_parts.proofs.on_line_runs.SiteStretches.{line-not_one}
use Rattle.mk_edit_parts.proofs.on_new_lines.NewLinePlaces.{found-within}
use Rattle.mk_edit_parts.proofs.site.rule_exchanged.Given.{Over}
use Rattle.mk_edit_parts.proofs.site.rule_exchanged.Goals.{In_ok-header, In-Some}
use Rattle.mk_edit_parts.proofs.site.rule_exchanged.Goals as goal

abbrev picked : (g : Over) (c : In_ok-header g) → IsPicked (classed_lines (located_text c.args.doc.now)) (Some (Rule c.args.nth c.args.target.now)) c.in_ok-header.header
picked g c = c.in_ok-header.ensures.found (classed_lines (located_text c.args.doc.now)) c.requires.sought

run : (g : Over) (c : In-Some g)
    → HasRun c.args.doc.now c.args.nth c.args.target.now (block_seen c.args.block) c.in_ok-header.header c.requires.faithful
    (c.in_ok-header.ensures.found (classed_lines (located_text c.args.doc.now)) c.requires.sought) c.requires.unrefused c.in-Some.below
run g c =
    rule-run c.args.doc.now c.args.nth c.args.target.now (block_seen c.args.block) c.in_ok-header.header c.requires.faithful
    (c.in_ok-header.ensures.found (classed_lines (located_text c.args.doc.now)) c.requires.sought) c.requires.unrefused c.in-Some.below (sym c.in-Some.is ∙ c.run_below.ensures)

pub returns-in_err-header-clause-refused : goal.returns-in_err-header-clause-refused
returns-in_err-header-clause-refused g c =
    let t = located_text c.args.doc.now in
    let ls = classed_lines t in
    let n = c.args.nth in
    let target = c.args.target.now in
    let ts = block_seen c.args.block in
    let r = c.in_err-header.field-0.0 in
    let none = c.in_err-header.ensures.refused ls c.requires.sought in
    of-error (λ z. spans t (ExchangeLines (OfRuleRun n target) ts) ≡ Err z) c.from_residual.result r c.from_residual.ensures.1
    (site-refused t (OfRuleRun n target) ts r (not_one-rule n target ts t r c.requires.unrefused (line-not_one ls (Rule n target) run_or_header r none)))

pub line-requires : goal.line-requires
line-requires g c =
    let P = picked g (goal.at.line-requires g c).In_ok-header in
    omega (arith, found-within c.args.doc.now (Rule c.args.nth c.args.target.now) c.in_ok-header.header c.requires.faithful P.meant)

pub target_count-targets-requires : goal.target_count-targets-requires
target_count-targets-requires g c = faithful-at c.args.doc.now c.in_ok-header.header.at (line_view c.line.result.now) c.requires.faithful c.line.ensures

pub returns-then-targets-gt1-clause-refused : goal.returns-then-targets-gt1-clause-refused
returns-then-targets-gt1-clause-refused g c =
    let P = picked g (goal.at.returns-then-targets-gt1-clause-refused g c).In_ok-header in
    site-refused (located_text c.args.doc.now) (OfRuleRun c.args.nth c.args.target.now) (block_seen c.args.block) (SharedRule c.target_count-targets.result)
    (rule-shared c.args.doc.now c.args.nth c.args.target.now (block_seen c.args.block) c.in_ok-header.header c.requires.faithful P c.requires.unrefused
    (line_view c.line.result.now) c.target_count-targets.result c.line.ensures c.target_count-targets.ensures c.if-targets-gt1.true)

pub overflow_add-header : goal.overflow_add-header
overflow_add-header g c =
    let P = picked g (goal.at.overflow_add-header g c).In_ok-header in
    omega (arith, found-within c.args.doc.now (Rule c.args.nth c.args.target.now) c.in_ok-header.header c.requires.faithful P.meant, c.len.ensures.few, c.len.ensures.number)

pub run_below-requires-clause-in_range : goal.run_below-requires-clause-in_range
run_below-requires-clause-in_range g c =
    let P = picked g (goal.at.run_below-requires-clause-in_range g c).In_ok-header in
    omega (arith, found-within c.args.doc.now (Rule c.args.nth c.args.target.now) c.in_ok-header.header c.requires.faithful P.meant)

pub returns-in_default-clause-refused : goal.returns-in_default-clause-refused
returns-in_default-clause-refused g c =
    let P = picked g (goal.at.returns-in_default-clause-refused g c).In_ok-header in
    site-refused (located_text c.args.doc.now) (OfRuleRun c.args.nth c.args.target.now) (block_seen c.args.block) Straddles
    (rule-split c.args.doc.now c.args.nth c.args.target.now (block_seen c.args.block) c.in_ok-header.header c.requires.faithful P c.requires.unrefused
    (line_view c.line.result.now) c.target_count-targets.result c.line.ensures c.target_count-targets.ensures c.if-targets-gt1.false (sym c.in_default.is ∙ c.run_below.ensures))

pub overflow_add-count : goal.overflow_add-count
overflow_add-count g c = omega (arith, (run g (goal.at.overflow_add-count g c).In-Some).in_range, c.len.ensures.few, c.len.ensures.number)

pub is_held-requires-clause-in_range : goal.is_held-requires-clause-in_range
is_held-requires-clause-in_range g c = (run g (goal.at.is_held-requires-clause-in_range g c).In-Some).in_range

pub returns-then-is_held-clause-refused : goal.returns-then-is_held-clause-refused
returns-then-is_held-clause-refused g c =
    let H = run g (goal.at.returns-then-is_held-clause-refused g c).In-Some in
    let d = c.args.doc.now in
    let ts = block_seen c.args.block in
    let P = picked g (goal.at.returns-then-is_held-clause-refused g c).In_ok-header in
    let x = gone d c.args.nth c.args.target.now ts c.in_ok-header.header c.requires.faithful P c.requires.unrefused in
    site-refused (located_text d) (OfRuleRun c.args.nth c.args.target.now) ts Already
    (H.held (line_view c.line.result.now) c.target_count-targets.result c.line.ensures c.target_count-targets.ensures c.if-targets-gt1.false
    (sym c.if-is_held.true ∙ c.is_held.ensures x H.meant.place_is H.meant.count_is))

pub returns-clause-found : goal.returns-clause-found
returns-clause-found g c =
    let H = run g (goal.at.returns-clause-found g c).In-Some in
    let d = c.args.doc.now in
    let ts = block_seen c.args.block in
    let P = picked g (goal.at.returns-clause-found g c).In_ok-header in
    let x = gone d c.args.nth c.args.target.now ts c.in_ok-header.header c.requires.faithful P c.requires.unrefused in
    H.sited (line_view c.line.result.now) c.target_count-targets.result c.line.ensures c.target_count-targets.ensures c.if-targets-gt1.false
    (sym c.if-is_held.false ∙ c.is_held.ensures x H.meant.place_is H.meant.count_is)
