use Rattle.std.proofs.Common.{◌≡◌, ◌∙◌, ◌≤◌, ap, sym, arith, true, false, length}
use Rattle.mk_tree.specs.Trees.{line_view}
use Rattle.mk_class.specs.LocatedClasses.{leaves_flag_located}
use Rattle.mk_edit_parts.specs.RecipeWalks.{is_recipe_located}
use Rattle.mk_edit_parts.specs.TextMatches.{with_match}
use Rattle.mk_edit_parts.specs.declared.recipe_text.Matches.{Matches}
use Rattle.mk_tree.proofs.AdmissionLemmas.{drop-none, drop-step}
use Rattle.mk_edit_parts.proofs.on_recipes.WalkLemmas.{ahead-here}
use Rattle.mk_edit_parts.proofs.on_recipes.TextWalks.{text_is, matches-found, match-past, match-recipe, match-other, match-ended}
use Rattle.mk_edit_parts.proofs.recipe_text.recipe_matches.Goals.{then-is_recipe+then-has_text, then-is_recipe+else-has_text, else-is_recipe+else-not-leaves_flag}
use Rattle.mk_edit_parts.proofs.recipe_text.recipe_matches.Goals as goal

pub returns-then-not-leaves_flag : goal.returns-then-not-leaves_flag
returns-then-not-leaves_flag g c =
    let l = line_view c.in-Some.line.now in
    let ahead = c.lines.invariant.0 ∙ c.in-Some.ensures.steps in
    let there = ahead-here c.args.doc.now c.next.new.self c.lines.at l ahead in
    let d = c.args.doc.now in
    let k : is_recipe_located l.class ≡ false = ap is_recipe_located (sym c.class-class.ensures) ∙ (sym c.is_recipe.ensures ∙ c.if-is_recipe.false) in
    let s : leaves_flag_located l.class ≡ false = ap leaves_flag_located (sym c.class-class.ensures) ∙ (sym c.leaves_flag.ensures ∙ c.if-not-leaves_flag.true) in
    let M = matches-found d c.args.from c.args.text.now c.lines.matches c.requires.faithful (sym (match-ended c.lines.matches c.args.text.now d c.lines.at l there k s) ∙ c.lines.invariant.2) in
    record { first = M.first; count = M.count }

pub returns : goal.returns
returns g c =
    let d = c.args.doc.now in
    let past : length d ≤ c.lines.at = omega arith in
    let M = matches-found d c.args.from c.args.text.now c.lines.matches c.requires.faithful (sym (match-past c.lines.matches c.args.text.now d c.lines.at past) ∙ c.lines.invariant.2) in
    record { first = M.first; count = M.count }

pub unreachable-requires : goal.unreachable-requires
unreachable-requires g c = drop-none c.args.doc.now c.lines.at (omega arith) (c.lines.invariant.0 ∙ c.in_default.ensures.steps.0)

pub lines-preserved : goal.lines-preserved
lines-preserved g c =
    let l = line_view c.in-Some.line.now in
    let ahead = c.lines.invariant.0 ∙ c.in-Some.ensures.steps in
    let there = ahead-here c.args.doc.now c.next.new.self c.lines.at l ahead in
    let d = c.args.doc.now in
    let on = drop-step d c.next.new.self l c.lines.at ahead in
    let o = c.args.text.now in
    let k : c.is_recipe.result ≡ is_recipe_located l.class = c.is_recipe.ensures ∙ ap is_recipe_located c.class-class.ensures in
    elim c.if-is_recipe.branch [
      | then-is_recipe+then-has_text w ↦
          let t : text_is o l.bytes ≡ true = sym w.has_text.ensures ∙ w.if-has_text.true in
          let e : c.if-is_recipe.matches ≡ with_match c.lines.matches c.lines.at = w.matches-is ∙ w.with_match-matches.ensures in
          (on, omega (arith, ap (λ (z : Matches). z.count) e), sym (match-recipe c.lines.matches c.if-is_recipe.matches o d c.lines.at l true there (sym k ∙ w.if-is_recipe.true) t e) ∙ c.lines.invariant.2)
      | then-is_recipe+else-has_text w ↦
          let t : text_is o l.bytes ≡ false = sym w.has_text.ensures ∙ w.if-has_text.false in
          (on, omega (arith, ap (λ (z : Matches). z.count) w.matches-is), sym (match-recipe c.lines.matches c.if-is_recipe.matches o d c.lines.at l false there (sym k ∙ w.if-is_recipe.true) t w.matches-is) ∙ c.lines.invariant.2)
      | else-is_recipe+else-not-leaves_flag w ↦
          let s : leaves_flag_located l.class ≡ true = ap leaves_flag_located (sym c.class-class.ensures) ∙ (sym w.leaves_flag.ensures ∙ w.if-not-leaves_flag.false) in
          (on, omega (arith, ap (λ (z : Matches). z.count) w.matches-is), sym (match-other c.lines.matches c.if-is_recipe.matches o d c.lines.at l there (sym k ∙ w.if-is_recipe.false) s w.matches-is) ∙ c.lines.invariant.2)
    ]
