-- The first line of a walk of which something is seen.
-- Told in docs/ARCHITECTURE.md, "From a script to a text".
use Rattle.std.specs.Prelude.{◌≡◌, ◌<◌, ◌≤◌, ℕ, Bool, List, [], ◌∷◌, length, count_by, is_some, Option, MatchOption}
use Rattle.std.specs.Borrow.{Bor}
use Rattle.mk_tree.specs.LocatedLines.{LocatedLine}
use Rattle.mk_queries.specs.declared.listing.position.Position.{Position}
use Rattle.mk_lines.specs.Lists.{leading}
use Rattle.mk_tree.specs.Views.{recipe_of}
use Rattle.mk_queries.specs.Listings.{Walk, seen, seen_recipes, standing, stays}

-- A walk passes the lines up to the first of which something is seen, which is found; or all of them,
-- if there is none.
abbrev pub FindsFirst : {V : Type 0} → (LocatedLine → Option V) → (V → Bool) → Walk
    → Option (Position × V) → Walk → Type 0
FindsFirst view passes walk found left =
    MatchOption found
    ((seen view passes (standing walk) ≡ [])
    × (seen view passes (standing left) ≡ [])
    × (length left.ahead ≤ length walk.ahead))
    (λ first. (seen view passes (standing walk)
    ≡ record { position = first.0; shown = first.1; below = left }
    ∷ seen view passes (standing left))
    × (length left.ahead < length walk.ahead))

-- A walk below the line of a rule passes the lines up to the next recipe line of the rule, if there is
-- one.
abbrev pub FindsRecipe : Walk → Option (Position × Bor (List ℕ)) → Walk → Type 0
FindsRecipe walk found left =
    MatchOption found ((seen_recipes walk ≡ []) × (length left.ahead ≤ length walk.ahead))
    (λ first. (seen_recipes walk
    ≡ record { position = first.0; shown = first.1.now; below = left } ∷ seen_recipes left)
    × (length left.ahead < length walk.ahead))

-- how many recipe lines the rule above some lines has
abbrev pub recipe_count : List LocatedLine → ℕ
recipe_count ls = count_by (λ l. is_some (recipe_of l)) (leading stays ls)
