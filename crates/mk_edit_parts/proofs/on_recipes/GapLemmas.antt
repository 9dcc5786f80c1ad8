-- The place of a number for a new recipe line is that of the recipe line of this number, or the one after the last.
use Rattle.std.proofs.Common.{◌≡◌, refl, ℕ, zero, suc, ◌+◌, List, [], ◌∷◌, ◌++◌, map, true, false, length, Option, Some, None, is_some, option_map}
use Rattle.mk_tree.specs.LineTexts.{StandingLine}
use Rattle.mk_edit_language.specs.Spots.{nth_of}
use Rattle.mk_edit_parts.specs.RecipeWalks.{follows_recipe}

-- how many lines stand above a spot
abbrev pub offset_of : StandingLine → ℕ
offset_of s = length s.above

-- before a recipe line
gap-line : (from at k e : ℕ) (ss : List StandingLine) → Some at ≡ option_map (λ s. from + length s.above) (nth_of k ss) → Some at ≡ option_map (λ n. from + n) (nth_of k (map offset_of ss ++ e ∷ []))
gap-line from at k e [] h = absurd (cc)
gap-line from at zero e (s ∷ ss) h = absurd (cc)
gap-line from at (suc zero) e (s ∷ ss) h = h
gap-line from at (suc (suc n)) e (s ∷ ss) h = gap-line from at (suc n) e ss h

-- after the last
pub gap-last : (from k e : ℕ) (ss : List StandingLine) → None ≡ option_map (λ s. from + length s.above) (nth_of k ss) → follows_recipe k ss ≡ true
    → Some (from + e) ≡ option_map (λ n. from + n) (nth_of k (map offset_of ss ++ e ∷ []))
gap-last from zero e ss h f = absurd (cc)
gap-last from (suc zero) e [] h f = refl
gap-last from (suc zero) e (s ∷ ss) h f = absurd (cc)
gap-last from (suc (suc n)) e [] h f = absurd (cc)
gap-last from (suc (suc zero)) e (s ∷ ss) h f = gap-last from (suc zero) e ss h refl
gap-last from (suc (suc (suc n))) e (s ∷ ss) h f = gap-last from (suc (suc n)) e ss h f

-- nowhere
pub gap-none : (from k e : ℕ) (ss : List StandingLine) → None ≡ option_map (λ s. from + length s.above) (nth_of k ss) → follows_recipe k ss ≡ false
    → None ≡ option_map (λ n. from + n) (nth_of k (map offset_of ss ++ e ∷ []))
gap-none from zero e [] h f = refl
gap-none from zero e (s ∷ ss) h f = refl
gap-none from (suc zero) e ss h f = absurd (cc)
gap-none from (suc (suc n)) e [] h f = refl
gap-none from (suc (suc zero)) e (s ∷ ss) h f = absurd (cc)
gap-none from (suc (suc (suc n))) e (s ∷ ss) h f = gap-none from (suc (suc n)) e ss h f

-- an option that is nothing
pub none-is : (o : Option ℕ) → is_some o ≡ false → None ≡ o
none-is None h = refl
none-is (Some n) h = absurd (cc)

-- where there is a recipe line of this number
pub gap-some : (from k e : ℕ) (ss : List StandingLine) (o : Option ℕ) → o ≡ option_map (λ s. from + length s.above) (nth_of k ss) → is_some o ≡ true → o ≡ option_map (λ n. from + n) (nth_of k (map offset_of ss ++ e ∷ []))
gap-some from k e ss None h i = absurd (cc)
gap-some from k e ss (Some at) h i = gap-line from at k e ss h
