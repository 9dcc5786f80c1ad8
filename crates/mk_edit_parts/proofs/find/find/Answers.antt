use Rattle.std.proofs.Common.{◌≡◌, ◌∙◌, ap, sym, subst, None}
use Rattle.mk_class.specs.ClassedLines.{classed_lines}
use Rattle.mk_tree.specs.LocatedLines.{located_text}
use Rattle.mk_edit_language.specs.Addresses.{address}
use Rattle.mk_edit_language.specs.ArgumentCauses.{bad_argument, reserved}
use Rattle.mk_edit_language.specs.AddressCauses.{unread_prefix}
use Rattle.mk_edit_language.specs.Causes.{where_holds}
use Rattle.mk_edit_language.specs.declared.refusal.Refusal.TheVariants.{Reserved, RecipePrefix}
use Rattle.mk_edit_language.specs.EditViews.{edit_of}
use Rattle.mk_edit_parts.specs.AddressViews.{address_seen, field_refusal}
use Rattle.mk_edit_parts.specs.Found.{IsPicked}
use Rattle.mk_edit_parts.proofs.on_finding.FindLemmas.{reserved-holds, unread-holds, not_picked-refused, picked-there}
use Rattle.mk_edit_parts.proofs.find.find.Goals as goal

pub returns-in-Err-clause-refused : goal.returns-in-Err-clause-refused
returns-in-Err-clause-refused g c =
    let e = edit_of c.args.edit.now in
    let t = located_text c.args.doc.now in
    let ls = classed_lines t in
    let fields : bad_argument e ≡ None = sym c.bad_field.ensures ∙ ap field_refusal c.in_default.is in
    let free : reserved e ≡ None = reserved-holds e c.is_reserved.result c.is_reserved.ensures ∙ ap (λ b. where_holds b Reserved) c.if-is_reserved.false in
    let read : unread_prefix ls ≡ None = unread-holds ls c.sought_for-sought.result.has_unread_prefix c.sought_for-sought.ensures.unread_is ∙ ap (λ b. where_holds b RecipePrefix) c.if-sought.false in
    not_picked-refused t e (address_seen c.address_of-address.result) c.in-Err.refusal c.refusal_of.result c.requires.one_place fields free read c.address_of-address.ensures (c.in-Err.ensures.refused ls c.sought_for-sought.ensures) c.refusal_of.ensures

pub returns-in-Ok-clause-found : goal.returns-in-Ok-clause-found
returns-in-Ok-clause-found g c =
    let e = edit_of c.args.edit.now in
    let ls = classed_lines (located_text c.args.doc.now) in
    let P : IsPicked ls (address e) c.in-Ok.found = subst (λ a. IsPicked ls a c.in-Ok.found) c.address_of-address.ensures (c.in-Ok.ensures.found ls c.sought_for-sought.ensures) in
    record {
      one_place = c.requires.one_place;
      arguments = sym c.bad_field.ensures ∙ ap field_refusal c.in_default.is;
      not_reserved = reserved-holds e c.is_reserved.result c.is_reserved.ensures ∙ ap (λ b. where_holds b Reserved) c.if-is_reserved.false;
      prefix_read = unread-holds ls c.sought_for-sought.result.has_unread_prefix c.sought_for-sought.ensures.unread_is ∙ ap (λ b. where_holds b RecipePrefix) c.if-sought.false;
      is_there = picked-there ls e c.requires.one_place P.is_there;
      is_one = P.is_one;
      meant = P.meant;
    }
