use Rattle.std.proofs.Common.{subst, Some}
use Rattle.std.specs.Prelude.{IfSome}
use Rattle.mk_edit_language.specs.Addresses.{Rule}
use Rattle.mk_edit_parts.specs.Windows.{AreWindows, concerns, concerns_name, first_place}
use Rattle.mk_index.proofs.finder.Finder.for_each_line.Goals as goal

pub returns-in-ChangeEach-clause-windows : goal.returns-in-ChangeEach-clause-windows
returns-in-ChangeEach-clause-windows g c =
    let w = c.in-ChangeEach in
    rw w.is (subst (λ n. IfSome c.for_asked.result (λ ws. AreWindows (concerns_name n) first_place c.args.doc.now ws.items)) c.deref.ensures.value c.for_asked.ensures.windows)

pub returns-in-SubstRecipe-clause-windows : goal.returns-in-SubstRecipe-clause-windows
returns-in-SubstRecipe-clause-windows g c =
    let w = c.in-SubstRecipe in
    rw w.is (subst (λ n. IfSome c.for_asked-in-SubstRecipe.result (λ ws. AreWindows (concerns (Some (Rule w.nth n))) first_place c.args.doc.now ws.items)) c.deref-in-SubstRecipe.ensures.value c.for_asked-in-SubstRecipe.ensures.windows)
