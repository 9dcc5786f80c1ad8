use Rattle.std.proofs.Common.{◌≡◌, ◌∙◌, ap, arith, ◌+◌, ◌≤◌, ◌++◌, length}
use Rattle.memchr.specs.Find.{matches}
use Rattle.mk_edit_language.specs.EachLine.{recipe_text}
use Rattle.mk_edit_parts.specs.RecipeChanges.{recipe_ranges}
use Rattle.mk_edit_parts.proofs.on_recipes.RecipesChanged.{written-all, written-next, written-start, written-within}
use Rattle.mk_edit_parts.proofs.recipe_change.recipe_after.Given.{Over}
use Rattle.mk_edit_parts.proofs.recipe_change.recipe_after.Goals.{In-Some}
use Rattle.mk_edit_parts.proofs.recipe_change.recipe_after.Goals as goal

pub texts-init : goal.texts-init
texts-init g c =
    let e : c.into_iter-at-iterator.result ≡ matches (recipe_text c.args.line.now) c.args.from.now 0 =
    c.into_iter-at-iterator.ensures.into_iter_gives ∙ (c.find_iter-at-items.ensures.value ∙ ap (λ z. matches z c.args.from.now 0) c.recipe_text.ensures) in
    record {
      can_next = tt;
      is_finite = tt;
      written = written-start c.args.from.now c.requires c.args.line.now c.args.to.now _ _ e c.in_ok-bytes.ensures.items;
    }

-- the first occurrence ahead
ahead : (g : Over) (c : In-Some g) → (c.texts.done ≤ c.in-Some.at + 1) × (c.in-Some.at + 1 + length c.args.from.now ≤ length c.args.line.now)
ahead g c =
    written-within c.args.line.now c.args.to.now (recipe_ranges c.args.from.now c.args.line.now) (length c.args.from.now) _ c.texts.done _ c.in-Some.at _ c.in-Some.ensures.steps c.texts.invariant.written

pub overflow_add-start : goal.overflow_add-start
overflow_add-start g c =
    let at = goal.at.overflow_add-start g c in
    let w = ahead g at.In-Some in
    omega arith

pub overflow_add-end : goal.overflow_add-end
overflow_add-end g c =
    let at = goal.at.overflow_add-end g c in
    let w = ahead g at.In-Some in
    omega arith

pub write_word-requires : goal.write_word-requires
write_word-requires g c =
    let at = goal.at.write_word-requires g c in
    let w = ahead g at.In-Some in
    record { after = w.0; within = omega (arith, w.1) }

pub texts-preserved : goal.texts-preserved
texts-preserved g c = record {
  can_next = tt;
  is_finite = tt;
  written = written-next c.args.line.now c.args.to.now (recipe_ranges c.args.from.now c.args.line.now) (length c.args.from.now) _ c.texts.done _ c.in-Some.at _ _ c.in-Some.ensures.steps c.in_ok-write_word.ensures c.texts.invariant.written;
}

pub returns : goal.returns
returns g c = written-all c.args.from.now c.requires c.args.line.now c.args.to.now _ _ c.texts.done _ c.in-None.ensures.steps.0 (c.in_ok-extend_from_slice.ensures.items ∙ ap (λ z. c.texts.bytes.items ++ z) c.rest.ensures) c.texts.invariant.written
