use Rattle.std.proofs.Common.{◌≡◌, ◌∙◌, refl, sym, ap, subst, arith, ◌<◌, Bool, true, false, List, ℕ, length, inr}
use Rattle.mk_tree.specs.LocatedLines.{LocatedLine}
use Rattle.mk_tree.specs.Trees.{line_view}
use Rattle.mk_edit_language.specs.EachLine.{recipe_after}
use Rattle.mk_edit_language.specs.LineChanges.{fits_line}
use Rattle.mk_edit_parts.specs.RecipeChanges.{line_end_length, reads_as_stated}
use Rattle.mk_edit.proofs.on_each_lines.RecipesRead.{recipe-ended, recipe-read}
use Rattle.mk_edit.proofs.on_line_changes.MisreadLines.{fits-one}
use Rattle.mk_edit.proofs.each_line_patch.recipe_line_after.Goals as goal

pub read-requires-clause-line : goal.read-requires-clause-line
read-requires-clause-line g c =
    fits-one c.bytes-old.result.now c.in-Ok.bytes.items (subst (λ z. fits_line c.bytes-old.result.now z ≡ true) c.deref.ensures.value (sym c.fits_line.ensures ∙ c.if-not-fits_line.false))

pub reads_as_stated-requires : goal.reads_as_stated-requires
reads_as_stated-requires g c =
    let l = (line_view c.args.noted.now.line.now).bytes in
    let ended = recipe-ended c.args.noted.now.place.context l c.args.from.now c.args.to.now c.requires.own.0 c.requires.own.1 c.requires.changed c.in-Ok.bytes.items
    (c.in-Ok.ensures ∙ ap (recipe_after c.args.from.now c.args.to.now) c.bytes-old.ensures.bytes) in
    subst (λ z. line_end_length z < length (line_view c.in-Ok-read.line).bytes) (sym c.bytes-old.ensures.bytes)
    (subst (λ (z : LocatedLine). line_end_length l < length z.bytes) (sym c.in-Ok-read.ensures.line) ended)

stated-by : (old l : List ℕ) (new new' : LocatedLine) (r b : Bool) → r ≡ reads_as_stated old new → old ≡ l → new ≡ new' → r ≡ b → reads_as_stated l new' ≡ b
stated-by old l new new' r b h o n e = sym (h ∙ (ap (λ z. reads_as_stated z new) o ∙ ap (reads_as_stated l) n)) ∙ e

fits-by : (old l bytes m : List ℕ) (r : Bool) → r ≡ fits_line old bytes → old ≡ l → bytes ≡ m → r ≡ true → fits_line l m ≡ true
fits-by old l bytes m r h o n e = sym (h ∙ (ap (λ z. fits_line z bytes) o ∙ ap (fits_line l) n)) ∙ e

pub returns-then-reads_as_stated-clause-read : goal.returns-then-reads_as_stated-clause-read
returns-then-reads_as_stated-clause-read g c =
    let l = (line_view c.args.noted.now.line.now).bytes in
    let R = c.in-Ok-read.ensures in
    record {
      told = recipe-read c.args.noted.now.place.context l c.args.from.now c.args.to.now c.requires.own.0 c.requires.own.1 c.requires.changed c.in-Ok.bytes.items
          (c.in-Ok.ensures ∙ ap (recipe_after c.args.from.now c.args.to.now) c.bytes-old.ensures.bytes) true
          (fits-by _ _ _ _ _ c.fits_line.ensures c.bytes-old.ensures.bytes c.deref.ensures.value c.if-not-fits_line.false)
          (stated-by _ _ _ _ _ _ c.reads_as_stated.ensures c.bytes-old.ensures.bytes R.line c.if-reads_as_stated.true);
      refused = tt;
      counted = omega (arith, R.counted);
      few_read = R.once;
      forward = R.forward;
    }

pub returns-else-reads_as_stated-clause-read : goal.returns-else-reads_as_stated-clause-read
returns-else-reads_as_stated-clause-read g c =
    let l = (line_view c.args.noted.now.line.now).bytes in
    let R = c.in-Ok-read.ensures in
    record {
      told = tt;
      refused = inr (
        refl,
        recipe-read c.args.noted.now.place.context l c.args.from.now c.args.to.now c.requires.own.0 c.requires.own.1 c.requires.changed c.in-Ok.bytes.items
            (c.in-Ok.ensures ∙ ap (recipe_after c.args.from.now c.args.to.now) c.bytes-old.ensures.bytes) false
            (fits-by _ _ _ _ _ c.fits_line.ensures c.bytes-old.ensures.bytes c.deref.ensures.value c.if-not-fits_line.false)
            (stated-by _ _ _ _ _ _ c.reads_as_stated.ensures c.bytes-old.ensures.bytes R.line c.if-reads_as_stated.false),
      );
      counted = tt;
      few_read = R.once;
      forward = R.forward;
    }
