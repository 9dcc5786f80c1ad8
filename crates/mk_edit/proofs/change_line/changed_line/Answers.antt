use Rattle.std.proofs.Common.{◌≡◌, refl, arith, true, inr}
use Rattle.mk_tree.specs.Trees.{line_view}
use Rattle.mk_edit_language.specs.LineChanges.{fits_line}
use Rattle.mk_edit_parts.specs.LineChangePlaces.{rewrite_view}
use Rattle.mk_edit.proofs.on_line_changes.MisreadLines.{fits-by, fits-one, unfit-misread}
use Rattle.mk_edit.proofs.change_line.changed_line.Given.{Over}
use Rattle.mk_edit.proofs.change_line.changed_line.Goals.{After-flavor_after-flavor}
use Rattle.mk_edit.proofs.change_line.changed_line.Goals as goal

pub returns-then-not-fits_line-clause-read : goal.returns-then-not-fits_line-clause-read
returns-then-not-fits_line-clause-read g c =
    let l = line_view c.args.line.now in
    let own = c.requires.own in
    record {
      told = tt;
      refused = inr (
        refl,
        unfit-misread (rewrite_view c.args.change) c.args.place.now.context l own.assigned own.is c.in-Ok.made.bytes.items (c.in-Ok.ensures.made.bytes_are own.assigned own.is)
            (fits-by _ _ _ _ _ _ c.fits_line.ensures c.bytes.ensures.bytes c.deref.ensures.value c.if-not-fits_line.true),
      );
      counted = tt;
      few_read = omega arith;
      forward = omega arith;
    }

fits : (g : Over) (c : After-flavor_after-flavor g) → fits_line (line_view c.args.line.now).bytes c.in-Ok.made.bytes.items ≡ true
fits g c = fits-by _ _ _ _ _ _ c.fits_line.ensures c.bytes.ensures.bytes c.deref.ensures.value c.if-not-fits_line.false

pub read_back-requires-clause-one : goal.read_back-requires-clause-one
read_back-requires-clause-one g c = fits-one (line_view c.args.line.now).bytes c.in-Ok.made.bytes.items (fits g (goal.at.read_back-requires-clause-one g c).After-flavor_after-flavor)
