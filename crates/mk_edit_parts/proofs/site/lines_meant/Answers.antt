use Rattle.std.proofs.Common.{◌≡◌, ◌∙◌, ap, sym, subst, None}
use Rattle.std.specs.Prelude.{Err, IfOk, IfErr}
use Rattle.mk_tree.specs.LocatedLines.{located_text}
use Rattle.mk_edit_language.specs.Edits.{OfRun, OfRuleRun, ExchangeLines}
use Rattle.mk_edit_language.specs.EditViews.{site_of}
use Rattle.mk_class.specs.ClassedLines.{classed_lines}
use Rattle.mk_edit_language.specs.LineRuns.{block_lines, site_address}
use Rattle.mk_edit_parts.specs.Seeking.{IsSought}
use Rattle.mk_edit_language.specs.Refusals.{first_cause, spans}
use Rattle.mk_edit_parts.specs.LineRunsFound.{block_seen}
use Rattle.mk_edit_parts.specs.SitesFound.{IsSited, causes_of_fields}
use Rattle.mk_edit_parts.proofs.on_line_runs.SiteCauses.{site-refused, not_one-new}
use Rattle.mk_edit_parts.proofs.on_line_runs.SiteStretches.{site-new}
use Rattle.mk_edit_parts.proofs.on_line_runs.SiteWindows.{windows-of}
use Rattle.mk_edit_parts.proofs.site.lines_meant.Goals as goal

pub run_exchanged-requires-clause-unrefused : goal.run_exchanged-requires-clause-unrefused
run_exchanged-requires-clause-unrefused g c =
    let is = ap site_of c.in-OfLines.is ∙ ap (λ b. OfRun c.in-OfLines.nth (block_lines b)) (sym c.deref.ensures.value) in
    subst (λ s. first_cause (causes_of_fields (located_text c.args.doc.now) s (block_seen c.args.block)) ≡ None) is c.requires.unrefused

pub new_place-requires-clause-new : goal.new_place-requires-clause-new
new_place-requires-clause-new g c = site-new c.args.site.now c.in_default.not-OfLines c.in_default.not-OfRule

pub unless_inserted-requires-clause-new : goal.unless_inserted-requires-clause-new
unless_inserted-requires-clause-new g c = site-new c.args.site.now c.in_default.not-OfLines c.in_default.not-OfRule

pub returns-in-Err-clause-refused : goal.returns-in-Err-clause-refused
returns-in-Err-clause-refused g c =
    let t = located_text c.args.doc.now in
    let s = site_of c.args.site.now in
    let ts = block_seen c.args.block in
    site-refused t s ts c.in-Err.refusal (not_one-new t s ts c.in-Err.refusal (site-new c.args.site.now c.in_default.not-OfLines c.in_default.not-OfRule) c.requires.unrefused c.in-Err.ensures.refused)

pub returns-in-OfLines-clause-found : goal.returns-in-OfLines-clause-found
returns-in-OfLines-clause-found g c =
    let is = ap site_of c.in-OfLines.is ∙ ap (λ b. OfRun c.in-OfLines.nth (block_lines b)) (sym c.deref.ensures.value) in
    subst (λ s. IfOk c.run_exchanged.result (λ w. IsSited s (block_seen c.args.block) c.args.doc.now w)) (sym is) c.run_exchanged.ensures.found

pub returns-in-OfLines-clause-refused : goal.returns-in-OfLines-clause-refused
returns-in-OfLines-clause-refused g c =
    let is = ap site_of c.in-OfLines.is ∙ ap (λ b. OfRun c.in-OfLines.nth (block_lines b)) (sym c.deref.ensures.value) in
    subst (λ s. IfErr c.run_exchanged.result (λ r. spans (located_text c.args.doc.now) (ExchangeLines s (block_seen c.args.block)) ≡ Err r)) (sym is) c.run_exchanged.ensures.refused

pub rule_exchanged-requires-clause-sought : goal.rule_exchanged-requires-clause-sought
rule_exchanged-requires-clause-sought g c =
    let is = ap site_of c.in-OfRule.is ∙ ap (λ b. OfRuleRun c.in-OfRule.nth b) (sym c.deref-in-OfRule.ensures.value) in
    subst (λ s. IsSought (classed_lines (located_text c.args.doc.now)) (site_address s) c.args.sought) is c.requires.sought

pub rule_exchanged-requires-clause-unrefused : goal.rule_exchanged-requires-clause-unrefused
rule_exchanged-requires-clause-unrefused g c =
    let is = ap site_of c.in-OfRule.is ∙ ap (λ b. OfRuleRun c.in-OfRule.nth b) (sym c.deref-in-OfRule.ensures.value) in
    subst (λ s. first_cause (causes_of_fields (located_text c.args.doc.now) s (block_seen c.args.block)) ≡ None) is c.requires.unrefused

pub returns-in-OfRule-clause-found : goal.returns-in-OfRule-clause-found
returns-in-OfRule-clause-found g c =
    let is = ap site_of c.in-OfRule.is ∙ ap (λ b. OfRuleRun c.in-OfRule.nth b) (sym c.deref-in-OfRule.ensures.value) in
    subst (λ s. IfOk c.rule_exchanged.result (λ w. IsSited s (block_seen c.args.block) c.args.doc.now w)) (sym is) c.rule_exchanged.ensures.found

pub returns-in-OfRule-clause-refused : goal.returns-in-OfRule-clause-refused
returns-in-OfRule-clause-refused g c =
    let is = ap site_of c.in-OfRule.is ∙ ap (λ b. OfRuleRun c.in-OfRule.nth b) (sym c.deref-in-OfRule.ensures.value) in
    subst (λ s. IfErr c.rule_exchanged.result (λ r. spans (located_text c.args.doc.now) (ExchangeLines s (block_seen c.args.block)) ≡ Err r)) (sym is) c.rule_exchanged.ensures.refused

pub run_exchanged-requires-clause-windows : goal.run_exchanged-requires-clause-windows
run_exchanged-requires-clause-windows g c =
    let is = ap site_of c.in-OfLines.is ∙ ap (λ b. OfRun c.in-OfLines.nth (block_lines b)) (sym c.deref.ensures.value) in
    windows-of (site_of c.args.site.now) c.in-OfLines.nth (block_lines c.deref.result.now) c.args.doc.now c.args.windows.now is c.requires.windows
