use Rattle.std.proofs.Common.{◌∙◌, ap, sym}
use Rattle.mk_tree.specs.LocatedLines.{located_text}
use Rattle.mk_edit_language.specs.EditViews.{site_of}
use Rattle.mk_edit_language.specs.Causes.{where_holds}
use Rattle.mk_edit_language.specs.declared.refusal.Refusal.TheVariants.{Already}
use Rattle.mk_edit_parts.specs.LineRunsFound.{block_seen}
use Rattle.mk_edit_parts.specs.SitesFound.{no_lines}
use Rattle.mk_edit_parts.proofs.on_line_runs.SiteCauses.{new-block, one-new, site-refused}
use Rattle.mk_edit_parts.proofs.on_line_runs.SiteStretches.{place-in_range, stretch-in_range, stretch-place}
use Rattle.mk_edit_parts.proofs.site.unless_inserted.Goals as goal

pub is_inserted-requires-clause-in_range : goal.is_inserted-requires-clause-in_range
is_inserted-requires-clause-in_range g c =
    place-in_range c.args.doc.now c.requires.one.stretch c.args.place c.requires.faithful c.requires.one.meant

pub is_inserted-requires-clause-block : goal.is_inserted-requires-clause-block
is_inserted-requires-clause-block g c =
    new-block (located_text c.args.doc.now) (site_of c.args.site.now) (block_seen c.args.block) c.requires.new c.requires.unrefused

pub returns-then-is_inserted-clause-refused : goal.returns-then-is_inserted-clause-refused
returns-then-is_inserted-clause-refused g c =
    let t = located_text c.args.doc.now in
    let s = site_of c.args.site.now in
    let ts = block_seen c.args.block in
    let O = c.requires.one in
    let held = sym (c.is_inserted.ensures O.stretch O.meant.place_is O.meant.count_is) ∙ c.if-is_inserted.true in
    site-refused t s ts Already
    (one-new t s ts O.stretch c.requires.new c.requires.unrefused O.is_there O.is_one c.requires.whole O.picked_is ∙ ap (λ b. where_holds b Already) held)

pub returns-else-is_inserted-clause-found : goal.returns-else-is_inserted-clause-found
returns-else-is_inserted-clause-found g c =
    let t = located_text c.args.doc.now in
    let s = site_of c.args.site.now in
    let ts = block_seen c.args.block in
    let O = c.requires.one in
    let free = sym (c.is_inserted.ensures O.stretch O.meant.place_is O.meant.count_is) ∙ c.if-is_inserted.false in
    record {
      stretch = O.stretch;
      found_is = O.picked_is;
      meant = O.meant;
      in_range = stretch-in_range c.args.doc.now O.stretch (no_lines c.args.place) c.requires.faithful O.meant;
      place_of = stretch-place c.args.doc.now O.stretch (no_lines c.args.place) O.meant;
      unrefused = one-new t s ts O.stretch c.requires.new c.requires.unrefused O.is_there O.is_one c.requires.whole O.picked_is ∙ ap (λ b. where_holds b Already) free;
    }
