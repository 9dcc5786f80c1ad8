use Rattle.std.proofs.Common.{◌≡◌, ◌∙◌, ap, subst, sym, ◌||◌, None}
use Rattle.std.specs.List.{list_any}
use Rattle.mk_class.specs.ClassedLines.{classed_lines}
use Rattle.mk_class.specs.Keywords.{is_reserved_word}
use Rattle.mk_class.specs.RecipePrefix.{is_prefix_name}
use Rattle.mk_tree.specs.LocatedLines.{located_text}
use Rattle.mk_edit_language.specs.Edits.{ExchangeLines}
use Rattle.mk_edit_language.specs.EditViews.{site_of}
use Rattle.mk_edit_language.specs.ArgumentCauses.{address_names, address_targets, bad_argument, reserved}
use Rattle.mk_edit_language.specs.AddressCauses.{unread_prefix}
use Rattle.mk_edit_language.specs.Causes.{where_holds}
use Rattle.mk_edit_language.specs.declared.refusal.Refusal.TheVariants.{BadArgument, Reserved, RecipePrefix}
use Rattle.mk_edit_parts.specs.AddressViews.{field_refusal}
use Rattle.mk_edit_parts.specs.LineRunsFound.{block_seen}
use Rattle.mk_edit_parts.specs.Seeking.{IsSought}
use Rattle.mk_edit_parts.proofs.on_finding.FindLemmas.{reserved-holds, unread-holds}
use Rattle.mk_edit_parts.proofs.on_line_runs.SiteCauses.{field-refused, reserved-refused, prefix-refused, fields-pass}
use Rattle.mk_edit_parts.proofs.on_line_runs.SiteWindows.{windows-address}
use Rattle.mk_edit_parts.proofs.site.find_site.Goals as goal

pub returns-in-Some-clause-refused : goal.returns-in-Some-clause-refused
returns-in-Some-clause-refused g c =
    field-refused (located_text c.args.doc.now) (site_of c.args.site.now) (block_seen c.args.block) (BadArgument c.in-Some.field) (sym c.bad_site_field.ensures ∙ ap field_refusal c.in-Some.is)

pub returns-then-is_reserved_address-clause-refused : goal.returns-then-is_reserved_address-clause-refused
returns-then-is_reserved_address-clause-refused g c =
    let s = site_of c.args.site.now in
    let ts = block_seen c.args.block in
    let fields : bad_argument (ExchangeLines s ts) ≡ None = sym c.bad_site_field.ensures ∙ ap field_refusal c.in_default.is in
    let told = subst (λ a. c.is_reserved_address.result ≡ (list_any is_prefix_name (address_names a) || list_any is_reserved_word (address_targets a))) c.site_address-address.ensures c.is_reserved_address.ensures in
    reserved-refused (located_text c.args.doc.now) s ts Reserved fields (reserved-holds (ExchangeLines s ts) c.is_reserved_address.result told ∙ ap (λ b. where_holds b Reserved) c.if-is_reserved_address.true)

pub returns-then-sought-clause-refused : goal.returns-then-sought-clause-refused
returns-then-sought-clause-refused g c =
    let t = located_text c.args.doc.now in
    let s = site_of c.args.site.now in
    let ts = block_seen c.args.block in
    let fields : bad_argument (ExchangeLines s ts) ≡ None = sym c.bad_site_field.ensures ∙ ap field_refusal c.in_default.is in
    let told = subst (λ a. c.is_reserved_address.result ≡ (list_any is_prefix_name (address_names a) || list_any is_reserved_word (address_targets a))) c.site_address-address.ensures c.is_reserved_address.ensures in
    let free : reserved (ExchangeLines s ts) ≡ None = reserved-holds (ExchangeLines s ts) c.is_reserved_address.result told ∙ ap (λ b. where_holds b Reserved) c.if-is_reserved_address.false in
    prefix-refused t s ts RecipePrefix fields free (unread-holds (classed_lines t) c.seek_within-sought.result.has_unread_prefix c.seek_within-sought.ensures.unread_is ∙ ap (λ b. where_holds b RecipePrefix) c.if-sought.true)

pub lines_meant-requires-clause-sought : goal.lines_meant-requires-clause-sought
lines_meant-requires-clause-sought g c = subst (λ a. IsSought (classed_lines (located_text c.args.doc.now)) a c.seek_within-sought.result) c.site_address-address.ensures c.seek_within-sought.ensures

pub lines_meant-requires-clause-unrefused : goal.lines_meant-requires-clause-unrefused
lines_meant-requires-clause-unrefused g c =
    let t = located_text c.args.doc.now in
    let s = site_of c.args.site.now in
    let ts = block_seen c.args.block in
    let fields : bad_argument (ExchangeLines s ts) ≡ None = sym c.bad_site_field.ensures ∙ ap field_refusal c.in_default.is in
    let told = subst (λ a. c.is_reserved_address.result ≡ (list_any is_prefix_name (address_names a) || list_any is_reserved_word (address_targets a))) c.site_address-address.ensures c.is_reserved_address.ensures in
    let free : reserved (ExchangeLines s ts) ≡ None = reserved-holds (ExchangeLines s ts) c.is_reserved_address.result told ∙ ap (λ b. where_holds b Reserved) c.if-is_reserved_address.false in
    let read : unread_prefix (classed_lines t) ≡ None = unread-holds (classed_lines t) c.seek_within-sought.result.has_unread_prefix c.seek_within-sought.ensures.unread_is ∙ ap (λ b. where_holds b RecipePrefix) c.if-sought.false in
    fields-pass t s ts fields free read

pub seek_within-sought-requires-clause-windows : goal.seek_within-sought-requires-clause-windows
seek_within-sought-requires-clause-windows g c = windows-address (site_of c.args.site.now) _ c.args.doc.now c.args.windows.now c.site_address-address.ensures c.requires.windows
