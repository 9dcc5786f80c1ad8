use Rattle.std.proofs.Common.{◌≡◌, ◌∙◌, ap, sym, None, Some}
use Rattle.std.specs.Prelude.{Ok}
use Rattle.mk_class.specs.ClassedLines.{classed_lines}
use Rattle.mk_tree.specs.LocatedLines.{located_text}
use Rattle.mk_edit_language.specs.Addresses.{Variable}
use Rattle.mk_edit_language.specs.AddressCauses.{unread_prefix}
use Rattle.mk_edit_language.specs.Causes.{where_holds}
use Rattle.mk_edit_language.specs.declared.refusal.Refusal.TheVariants.{RecipePrefix}
use Rattle.mk_edit_parts.specs.Found.{IsPicked}
use Rattle.mk_edit_parts.proofs.on_finding.FindLemmas.{unread-holds}
use Rattle.mk_edit_parts.proofs.on_finding.PlaceLemmas.{line-at}
use Rattle.mk_session.proofs.lookup.LookupLemmas.{value-looked_up}
use Rattle.mk_session.proofs.lookup.get.Given.{Over}
use Rattle.mk_session.proofs.lookup.get.Goals.{In-Ok}
use Rattle.mk_session.proofs.lookup.get.Goals as goal

picked : (g : Over) (c : In-Ok g) → IsPicked (classed_lines (located_text c.args.doc.now)) (Some (Variable c.args.nth c.args.name.now)) c.in-Ok.found
picked g c = c.in-Ok.ensures.found (classed_lines (located_text c.args.doc.now)) c.seek-sought.ensures

pub line-requires : goal.line-requires
line-requires g c =
    (line-at c.args.doc.now (Variable c.args.nth c.args.name.now) c.in-Ok.found c.requires (picked g (goal.at.line-requires g c).In-Ok).meant).within

pub returns-in-Ok-clause-found : goal.returns-in-Ok-clause-found
returns-in-Ok-clause-found g c =
    let ls = c.args.doc.now in
    let read : unread_prefix (classed_lines (located_text ls)) ≡ None =
    unread-holds (classed_lines (located_text ls)) c.seek-sought.result.has_unread_prefix c.seek-sought.ensures.unread_is ∙ ap (λ b. where_holds b RecipePrefix) c.if-sought.false in
    value-looked_up c.views_are_the_parts.ensures.assignments ls c.args.nth c.args.name.now c.in-Ok.found _ c.requires (record { name = sym c.if-not-is_name.ensures; free = sym c.if-is_prefix_name.ensures }) read
    (picked g (goal.at.returns-in-Ok-clause-found g c).In-Ok) c.line.ensures
    ∙ ap (λ v. Ok v) (sym c.value_of.ensures)
