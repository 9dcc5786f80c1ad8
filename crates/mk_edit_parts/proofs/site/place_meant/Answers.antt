use Rattle.std.proofs.Common.{subst, sym}
use Rattle.mk_class.specs.ClassedLines.{classed_lines}
use Rattle.mk_tree.specs.LocatedLines.{located_text}
use Rattle.mk_edit_language.specs.Addresses.{place_address}
use Rattle.mk_edit_language.specs.EditViews.{place_of}
use Rattle.mk_edit_language.specs.declared.refusal.Refusal.TheVariants.{Straddles}
use Rattle.mk_edit_parts.specs.Found.{IsPicked, IsNotPicked}
use Rattle.mk_edit_parts.specs.Seeking.{IsSought}
use Rattle.mk_edit_parts.proofs.on_line_runs.SiteStretches.{place-one, place-not_picked, place-split}
use Rattle.mk_edit_parts.proofs.site.place_meant.Given.{Over}
use Rattle.mk_edit_parts.proofs.site.place_meant.Goals.{In-Ok}
use Rattle.mk_edit_parts.proofs.site.place_meant.Goals as goal

picked : (g : Over) (c : In-Ok g) → IsPicked (classed_lines (located_text c.args.doc.now)) (place_address (place_of c.args.place.now)) c.in-Ok.found
picked g c =
    let ls = classed_lines (located_text c.args.doc.now) in
    let sought = subst (λ a. IsSought ls a c.args.sought) (sym c.place_address.ensures) c.requires.sought in
    subst (λ a. IsPicked ls a c.in-Ok.found) c.place_address.ensures (c.in-Ok.ensures.found ls sought)

pub place_of_new-requires-clause-meant : goal.place_of_new-requires-clause-meant
place_of_new-requires-clause-meant g c = (picked g (goal.at.place_of_new-requires-clause-meant g c).In-Ok).meant

pub returns-in-Some-clause-found : goal.returns-in-Some-clause-found
returns-in-Some-clause-found g c =
    place-one c.args.doc.now (place_of c.args.place.now) c.in-Ok.found c.in-Some.place (picked g (goal.at.returns-in-Some-clause-found g c).In-Ok) c.in-Some.ensures.inserted

pub returns-in-Some-clause-whole : goal.returns-in-Some-clause-whole
returns-in-Some-clause-whole g c = c.in-Some.ensures.unsplit

pub returns-in-None-clause-refused : goal.returns-in-None-clause-refused
returns-in-None-clause-refused g c =
    place-split (classed_lines (located_text c.args.doc.now)) (place_of c.args.place.now) c.in-Ok.found Straddles (picked g (goal.at.returns-in-None-clause-refused g c).In-Ok) (c.place_of_new.ensures.split c.in-None.is)

pub returns-in-Err-clause-refused : goal.returns-in-Err-clause-refused
returns-in-Err-clause-refused g c =
    let ls = classed_lines (located_text c.args.doc.now) in
    let sought = subst (λ a. IsSought ls a c.args.sought) (sym c.place_address.ensures) c.requires.sought in
    place-not_picked ls (place_of c.args.place.now) c.in-Err.refusal (subst (λ a. IsNotPicked ls a c.in-Err.refusal) c.place_address.ensures (c.in-Err.ensures.refused ls sought))
