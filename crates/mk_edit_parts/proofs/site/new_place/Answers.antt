use Rattle.std.proofs.Common.{◌∙◌, ap, refl, sym, subst}
use Rattle.mk_class.specs.ClassedLines.{classed_lines}
use Rattle.mk_tree.specs.LocatedLines.{located_text}
use Rattle.mk_edit_language.specs.Edits.{AtPlace, BeforeRun, AfterRun}
use Rattle.mk_edit_language.specs.EditViews.{place_of, site_of}
use Rattle.mk_edit_language.specs.LineRuns.{block_lines, site_address}
use Rattle.mk_edit_parts.specs.Seeking.{IsSought}
use Rattle.mk_edit_parts.specs.SitesFound.{IsOfNew, no_lines}
use Rattle.mk_edit_parts.proofs.on_line_runs.SiteStretches.{stretch-in_range, stretch-place, site-place, site-whole, site-before, site-after, site-not_place, site-not_before, site-not_after}
use Rattle.mk_edit_parts.proofs.on_line_runs.SiteWindows.{windows-before, windows-after}
use Rattle.mk_edit_parts.proofs.site.new_place.Goals as goal

pub place_meant-requires-clause-sought : goal.place_meant-requires-clause-sought
place_meant-requires-clause-sought g c = subst (λ s. IsSought (classed_lines (located_text c.args.doc.now)) (site_address s) c.args.sought) (ap site_of c.in-AtPlace.is) c.requires.sought

pub after_lines-requires-clause-place : goal.after_lines-requires-clause-place
after_lines-requires-clause-place g c =
    let O = c.in-Ok-one_run-2.ensures.found (classed_lines (located_text c.args.doc.now)) (block_lines c.deref-in-AfterLines.result.now) c.run_matches-in-AfterLines.ensures.matches in
    stretch-place c.args.doc.now O.stretch c.in-Ok-one_run-2.run' O.meant

pub after_lines-requires-clause-in_range : goal.after_lines-requires-clause-in_range
after_lines-requires-clause-in_range g c =
    let O = c.in-Ok-one_run-2.ensures.found (classed_lines (located_text c.args.doc.now)) (block_lines c.deref-in-AfterLines.result.now) c.run_matches-in-AfterLines.ensures.matches in
    stretch-in_range c.args.doc.now O.stretch c.in-Ok-one_run-2.run' c.requires.faithful O.meant

pub unreachable-requires : goal.unreachable-requires
unreachable-requires g c = subst IsOfNew (ap site_of c.in-OfLines.is) c.requires.new

pub unreachable-requires-in-OfRule : goal.unreachable-requires-in-OfRule
unreachable-requires-in-OfRule g c = subst IsOfNew (ap site_of c.in-OfRule.is) c.requires.new

pub returns-in-Ok-clause-found : goal.returns-in-Ok-clause-found
returns-in-Ok-clause-found g c =
    site-place (classed_lines (located_text c.args.doc.now)) (site_of c.args.site.now) (place_of c.in-AtPlace.place) (no_lines c.in-Ok.found) (ap site_of c.in-AtPlace.is) c.in-Ok.ensures.found

pub returns-in-Err-clause-refused : goal.returns-in-Err-clause-refused
returns-in-Err-clause-refused g c =
    site-not_place (classed_lines (located_text c.args.doc.now)) (site_of c.args.site.now) (place_of c.in-AtPlace.place) c.in-Err.refusal (ap site_of c.in-AtPlace.is) c.in-Err.ensures.refused

pub returns-in-Ok-one_run-clause-found : goal.returns-in-Ok-one_run-clause-found
returns-in-Ok-one_run-clause-found g c =
    let ls = classed_lines (located_text c.args.doc.now) in
    let o = c.deref.result.now in
    let is = ap site_of c.in-BeforeLines.is ∙ ap (λ b. BeforeRun c.in-BeforeLines.nth (block_lines b)) (sym c.deref.ensures.value) in
    site-before ls (site_of c.args.site.now) c.in-BeforeLines.nth (block_lines o) c.in-Ok-one_run.run' is (c.in-Ok-one_run.ensures.found ls (block_lines o) c.run_matches.ensures.matches)

pub returns-in-Err-one_run-clause-refused : goal.returns-in-Err-one_run-clause-refused
returns-in-Err-one_run-clause-refused g c =
    let ls = classed_lines (located_text c.args.doc.now) in
    let o = c.deref.result.now in
    let is = ap site_of c.in-BeforeLines.is ∙ ap (λ b. BeforeRun c.in-BeforeLines.nth (block_lines b)) (sym c.deref.ensures.value) in
    site-not_before ls (site_of c.args.site.now) c.in-BeforeLines.nth (block_lines o) c.in-Err-one_run.refusal is (c.in-Err-one_run.ensures.refused ls (block_lines o) c.run_matches.ensures.matches)

pub returns-in-Ok-one_run-2-clause-found : goal.returns-in-Ok-one_run-2-clause-found
returns-in-Ok-one_run-2-clause-found g c =
    let ls = classed_lines (located_text c.args.doc.now) in
    let o = c.deref-in-AfterLines.result.now in
    let is = ap site_of c.in-AfterLines.is ∙ ap (λ b. AfterRun c.in-AfterLines.nth (block_lines b)) (sym c.deref-in-AfterLines.ensures.value) in
    site-after c.args.doc.now (site_of c.args.site.now) c.in-AfterLines.nth (block_lines o) c.in-Ok-one_run-2.run' c.after_lines.result is
    (c.in-Ok-one_run-2.ensures.found ls (block_lines o) c.run_matches-in-AfterLines.ensures.matches) c.after_lines.ensures.at c.after_lines.ensures.place

pub returns-in-Err-one_run-2-clause-refused : goal.returns-in-Err-one_run-2-clause-refused
returns-in-Err-one_run-2-clause-refused g c =
    let ls = classed_lines (located_text c.args.doc.now) in
    let o = c.deref-in-AfterLines.result.now in
    let is = ap site_of c.in-AfterLines.is ∙ ap (λ b. AfterRun c.in-AfterLines.nth (block_lines b)) (sym c.deref-in-AfterLines.ensures.value) in
    site-not_after ls (site_of c.args.site.now) c.in-AfterLines.nth (block_lines o) c.in-Err-one_run-2.refusal is
    (c.in-Err-one_run-2.ensures.refused ls (block_lines o) c.run_matches-in-AfterLines.ensures.matches)

pub returns-in-Ok-clause-whole : goal.returns-in-Ok-clause-whole
returns-in-Ok-clause-whole g c = site-whole (classed_lines (located_text c.args.doc.now)) (site_of c.args.site.now) (AtPlace (place_of c.in-AtPlace.place)) (ap site_of c.in-AtPlace.is) c.in-Ok.ensures.whole

pub returns-in-Ok-one_run-clause-whole : goal.returns-in-Ok-one_run-clause-whole
returns-in-Ok-one_run-clause-whole g c = site-whole (classed_lines (located_text c.args.doc.now)) (site_of c.args.site.now) _ (ap site_of c.in-BeforeLines.is) refl

pub returns-in-Ok-one_run-2-clause-whole : goal.returns-in-Ok-one_run-2-clause-whole
returns-in-Ok-one_run-2-clause-whole g c = site-whole (classed_lines (located_text c.args.doc.now)) (site_of c.args.site.now) _ (ap site_of c.in-AfterLines.is) refl

pub run_matches-requires-clause-windows : goal.run_matches-requires-clause-windows
run_matches-requires-clause-windows g c =
    let is = ap site_of c.in-BeforeLines.is ∙ ap (λ b. BeforeRun c.in-BeforeLines.nth (block_lines b)) (sym c.deref.ensures.value) in
    windows-before (site_of c.args.site.now) c.in-BeforeLines.nth (block_lines c.deref.result.now) c.args.doc.now c.args.windows.now is c.requires.windows

pub run_matches-requires-in-AfterLines-clause-windows : goal.run_matches-requires-in-AfterLines-clause-windows
run_matches-requires-in-AfterLines-clause-windows g c =
    let is = ap site_of c.in-AfterLines.is ∙ ap (λ b. AfterRun c.in-AfterLines.nth (block_lines b)) (sym c.deref-in-AfterLines.ensures.value) in
    windows-after (site_of c.args.site.now) c.in-AfterLines.nth (block_lines c.deref-in-AfterLines.result.now) c.args.doc.now c.args.windows.now is c.requires.windows
