use Rattle.std.proofs.Common.{◌≡◌, ◌∙◌, refl, sym, subst, false, Option, Some, None}
use Rattle.std.specs.Prelude.{is_some, IfSome}
use Rattle.mk_edit_language.specs.Addresses as addresses
use Rattle.mk_edit_language.specs.EditViews.{each_edit_of, edit_of, lines_of, site_of, value_change_of}
use Rattle.mk_edit_parts.specs.AddressViews.{address_seen}
use Rattle.mk_edit_parts.specs.Seeking.{IsKnownOf}
use Rattle.mk_edit_parts.specs.Windows.{AreWindows, concerns_name, first_place}
use Rattle.mk_edit_parts.specs.declared.address.Address.{Address}
use Rattle.mk_index.proofs.finder.Finder.known.Goals as goal

none-seen : (a : Option Address) → false ≡ is_some a → address_seen a ≡ None
none-seen None h = refl
none-seen (Some a) h = absurd (cc)

pub returns-then-is_some : goal.returns-then-is_some
returns-then-is_some g c = record {
  known = c.line_known.ensures (edit_of c.args.edit.now) c.args.doc.now (subst (λ (a : Option addresses.Address). IsKnownOf a c.args.doc.now c.by_index.result) c.address_of-address.ensures c.by_index.ensures.known);
  right = c.by_index.ensures.right;
}

pub returns : goal.returns
returns g c =
    let none = sym (none-seen c.address_of-address.result c.if-is_some.ensures) ∙ c.address_of-address.ensures in
    record {
      known = c.line_known-2.ensures (edit_of c.args.edit.now) c.args.doc.now (subst (λ (a : Option addresses.Address). IsKnownOf a c.args.doc.now c.at_end.result) none c.at_end.ensures);
      right = c.find_end.ensures;
    }

pub returns-in-ChangeValues : goal.returns-in-ChangeValues
returns-in-ChangeValues g c =
    let doc = c.args.doc.now in
    let w = c.in-ChangeValues in
    let windows = subst (λ n. IfSome c.for_asked.result (λ ws. AreWindows (concerns_name n) first_place doc ws.items)) c.deref-in-ChangeValues.ensures.value c.for_asked.ensures.windows in
    rw w.is (record { known = c.windows_known-in-ChangeValues.ensures.values w.name.items (value_change_of w.change) doc windows; right = c.for_asked.ensures.right })

pub returns-in-EachLine : goal.returns-in-EachLine
returns-in-EachLine g c =
    let w = c.in-EachLine in
    rw w.is (record { known = c.windows_known-in-EachLine.ensures.several (each_edit_of w.each) c.args.doc.now c.for_each_line.ensures.windows; right = c.for_each_line.ensures.right })

pub returns-in-ExchangeLines : goal.returns-in-ExchangeLines
returns-in-ExchangeLines g c =
    let w = c.in-ExchangeLines in
    rw w.is (record { known = c.windows_known-in-ExchangeLines.ensures.site (site_of w.site) (lines_of w.block) c.args.doc.now c.for_site.ensures.windows; right = c.for_site.ensures.right })
