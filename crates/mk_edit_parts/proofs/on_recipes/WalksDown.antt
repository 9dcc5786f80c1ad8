-- What walks down from the header of a rule find among the lines ahead.
use Rattle.std.specs.Prelude.{◌==◌, ◌||◌, if◌then◌else◌, ℕ, ◌+◌, Bool, List, [], ◌∷◌, Option, Some, None}
use Rattle.mk_class.specs.LocatedClasses.{leaves_flag_located}
use Rattle.mk_tree.specs.LocatedLines.{LocatedLine, is_conditional_located}
use Rattle.mk_edit_parts.specs.declared.recipe.Recipe as recipe
use Rattle.mk_edit_parts.specs.RecipeWalks.{is_recipe_located}

-- What a walk has found after some more lines; the first of these stands at this index. It has
-- found where the recipe ends, and whether a line of a conditional was passed before that end.
-- `conditional` says whether such a line was passed so far.
abbrev pub recipe_from : recipe.Recipe → (conditional : Bool) → (at : ℕ) → List LocatedLine
    → recipe.Recipe
recipe_from r c at [] = r
recipe_from r c at (l ∷ ls) =
    if is_recipe_located l.class
    then recipe_from (record { end = at + 1; is_split = c }) c (at + 1) ls
    else if leaves_flag_located l.class
    then recipe_from r (c || is_conditional_located l.class) (at + 1) ls
    else r

-- where the recipe line of this number stands; `passed` recipe lines were passed so far
abbrev pub recipe_index_from : (number passed at : ℕ) → List LocatedLine → Option ℕ
recipe_index_from n p at [] = None
recipe_index_from n p at (l ∷ ls) =
    if is_recipe_located l.class
    then (if p + 1 == n then Some at else recipe_index_from n (p + 1) (at + 1) ls)
    else if leaves_flag_located l.class then recipe_index_from n p (at + 1) ls
    else None
