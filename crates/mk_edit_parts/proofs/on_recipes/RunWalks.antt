-- Walks down from a header over runs of recipe lines and of gaps, which are passed at once.
use Rattle.std.proofs.Common.{◌≡◌, ◌∙◌, refl, sym, ap, subst, arith, ℕ, ◌+◌, ◌-◌, ◌≤◌, ◌==◌, ◌||◌, Bool, true, false, List, [], ◌∷◌, ◌++◌, length, drop, Some, None}
use Rattle.std.proofs.lemmas.Bool.{ne_eqb}
use Rattle.mk_class.specs.Contexts.{Context, context_after_located}
use Rattle.mk_class.specs.LocatedClasses.{leaves_flag_located}
use Rattle.mk_class.specs.declared.class.Class.{Class}
use Rattle.mk_class.specs.declared.class.Class.TheVariants as variants
use Rattle.mk_tree.specs.LocatedLines.{LocatedLine, is_conditional_located}
use Rattle.mk_tree.specs.Runs.{AreRun, Passes, is_in_run}
use Rattle.mk_tree.specs.declared.run.Run.{Run}
use Rattle.mk_tree.specs.declared.run.Run.TheVariants.{Recipes, Gaps}
use Rattle.mk_edit_parts.specs.RecipeWalks.{is_recipe_located}
use Rattle.mk_edit_parts.specs.declared.recipe.Recipe as recipe
use Rattle.mk_tree.proofs.AdmissionLemmas.{drop-step}
use Rattle.mk_edit_parts.proofs.on_finding.PlacesBelow.{IsWalkedTo, place-stepped}
use Rattle.mk_edit_parts.proofs.on_recipes.WalkLemmas.{ahead-here}
use Rattle.mk_edit_parts.proofs.on_recipes.WalksDown.{recipe_from, recipe_index_from}

-- ---- the classes of the lines of a run

recipe-is : (k : Class) → is_in_run Recipes k ≡ true → k ≡ variants.Recipe
recipe-is variants.Recipe h = refl
recipe-is variants.Endef h = absurd (cc)
recipe-is (variants.Body n) h = absurd (cc)
recipe-is variants.Opaque h = absurd (cc)
recipe-is variants.Blank h = absurd (cc)
recipe-is variants.Comment h = absurd (cc)
recipe-is (variants.Assign a p) h = absurd (cc)
recipe-is (variants.DefineHead p) h = absurd (cc)
recipe-is variants.If h = absurd (cc)
recipe-is variants.Else h = absurd (cc)
recipe-is variants.Endif h = absurd (cc)
recipe-is variants.Directive h = absurd (cc)
recipe-is (variants.TargetAssign t) h = absurd (cc)
recipe-is variants.Rough h = absurd (cc)
recipe-is (variants.Header x) h = absurd (cc)

recipe-class : (k : Class) → is_in_run Recipes k ≡ true → is_recipe_located k ≡ true
recipe-class k h = ap is_recipe_located (recipe-is k h)

-- what a gap is and is not
record IsGapClass (k : Class) : Type 0 where
  no_recipe : is_recipe_located k ≡ false
  leaves : leaves_flag_located k ≡ true
  no_conditional : is_conditional_located k ≡ false

gap-class : (k : Class) → is_in_run Gaps k ≡ true → IsGapClass k
gap-class variants.Blank h = record { no_recipe = refl; leaves = refl; no_conditional = refl }
gap-class variants.Comment h = record { no_recipe = refl; leaves = refl; no_conditional = refl }
gap-class variants.Recipe h = absurd (cc)
gap-class variants.Endef h = absurd (cc)
gap-class (variants.Body n) h = absurd (cc)
gap-class variants.Opaque h = absurd (cc)
gap-class (variants.Assign a p) h = absurd (cc)
gap-class (variants.DefineHead p) h = absurd (cc)
gap-class variants.If h = absurd (cc)
gap-class variants.Else h = absurd (cc)
gap-class variants.Endif h = absurd (cc)
gap-class variants.Directive h = absurd (cc)
gap-class (variants.TargetAssign t) h = absurd (cc)
gap-class variants.Rough h = absurd (cc)
gap-class (variants.Header x) h = absurd (cc)

-- a gap leaves the context
gap-context : (c : Context) (k : Class) → is_in_run Gaps k ≡ true → context_after_located c k ≡ c
gap-context c variants.Blank h = refl
gap-context c variants.Comment h = refl
gap-context c variants.Recipe h = absurd (cc)
gap-context c variants.Endef h = absurd (cc)
gap-context c (variants.Body n) h = absurd (cc)
gap-context c variants.Opaque h = absurd (cc)
gap-context c (variants.Assign a p) h = absurd (cc)
gap-context c (variants.DefineHead p) h = absurd (cc)
gap-context c variants.If h = absurd (cc)
gap-context c variants.Else h = absurd (cc)
gap-context c variants.Endif h = absurd (cc)
gap-context c variants.Directive h = absurd (cc)
gap-context c (variants.TargetAssign t) h = absurd (cc)
gap-context c variants.Rough h = absurd (cc)
gap-context c (variants.Header x) h = absurd (cc)

-- the context after a line of a run is the context after one more line of the run
run-context : (r : Run) (c : Context) (k l : Class) → is_in_run r k ≡ true → is_in_run r l ≡ true → context_after_located (context_after_located c k) l ≡ context_after_located c k
run-context Recipes c k l h i = rw (recipe-is k h, recipe-is l i) refl
run-context Gaps c k l h i = gap-context (context_after_located c k) l i

-- ---- the walk for the end of a recipe

or-false : (c : Bool) → (c || false) ≡ c
or-false true = refl
or-false false = refl

recipes-passed : (c : Bool) (at : ℕ) (ms left : List LocatedLine) → AreRun Recipes ms
    → recipe_from (record { end = at; is_split = c }) c at (ms ++ left) ≡ recipe_from (record { end = at + length ms; is_split = c }) c (at + length ms) left
recipes-passed c at [] left h = let n : at ≡ at + 0 = omega arith in ap (λ (n : ℕ). recipe_from (record { end = n; is_split = c }) c n left) n
recipes-passed c at (m ∷ ms) left h =
    let n : at + 1 + length ms ≡ at + length (m ∷ ms) = omega arith in
    rw (recipe-class m.class h.0) (recipes-passed c (at + 1) ms left h.1 ∙ ap (λ (n : ℕ). recipe_from (record { end = n; is_split = c }) c n left) n)

gaps-passed : (r : recipe.Recipe) (c : Bool) (at : ℕ) (ms left : List LocatedLine) → AreRun Gaps ms → recipe_from r c at (ms ++ left) ≡ recipe_from r c (at + length ms) left
gaps-passed r c at [] left h = let n : at ≡ at + 0 = omega arith in ap (λ (n : ℕ). recipe_from r c n left) n
gaps-passed r c at (m ∷ ms) left h =
    let n : at + 1 + length ms ≡ at + length (m ∷ ms) = omega arith in
    let G = gap-class m.class h.0 in
    rw (G.no_recipe, G.leaves, G.no_conditional, or-false) (gaps-passed r c (at + 1) ms left h.1 ∙ ap (λ (n : ℕ). recipe_from r c n left) n)

-- a recipe line, and a run of them below it
pub end-recipes : (r q : recipe.Recipe) (c d : Bool) (at next number most : ℕ) (l : LocatedLine) (ahead below left : List LocatedLine) → ahead ≡ l ∷ below → is_recipe_located l.class ≡ true
    → Passes Recipes most number below left → next ≡ at + (number + 1) → q ≡ record { end = next; is_split = c } → d ≡ c → recipe_from r c at ahead ≡ recipe_from q d next left
end-recipes r q c d at next number most l ahead below left a k p n e f =
    let to : at + 1 + length p.passed ≡ next = omega (arith, n, p.number_is) in
    rw (a, k, e, f) (ap (recipe_from (record { end = at + 1; is_split = c }) c (at + 1)) p.ahead_is ∙ (recipes-passed c (at + 1) p.passed left p.are_run ∙ ap (λ (n : ℕ). recipe_from (record { end = n; is_split = c }) c n left) to))

-- a line that stays in the rule, and a run of gaps below it
pub end-gaps : (r q : recipe.Recipe) (c d : Bool) (at next number most : ℕ) (l : LocatedLine) (ahead below left : List LocatedLine) → ahead ≡ l ∷ below → is_recipe_located l.class ≡ false → leaves_flag_located l.class ≡ true
    → Passes Gaps most number below left → next ≡ at + (number + 1) → q ≡ r → d ≡ (c || is_conditional_located l.class) → recipe_from r c at ahead ≡ recipe_from q d next left
end-gaps r q c d at next number most l ahead below left a k s p n e f =
    let to : at + 1 + length p.passed ≡ next = omega (arith, n, p.number_is) in
    rw (a, k, s, e, f) (ap (recipe_from r (c || is_conditional_located l.class) (at + 1)) p.ahead_is ∙ (gaps-passed r (c || is_conditional_located l.class) (at + 1) p.passed left p.are_run ∙ ap (λ (n : ℕ). recipe_from r (c || is_conditional_located l.class) n left) to))

pub end-here : (r : recipe.Recipe) (c : Bool) (at : ℕ) (l : LocatedLine) (ahead below : List LocatedLine) → ahead ≡ l ∷ below → is_recipe_located l.class ≡ false → leaves_flag_located l.class ≡ false → recipe_from r c at ahead ≡ r
end-here r c at l ahead below a k s = rw (a, k, s) refl

pub end-none : (r : recipe.Recipe) (c : Bool) (at : ℕ) (ahead : List LocatedLine) → ahead ≡ [] → recipe_from r c at ahead ≡ r
end-none r c at ahead a = rw a refl

-- ---- the walk for a recipe line

indices-passed : (n p at : ℕ) (ms left : List LocatedLine) → AreRun Recipes ms → length ms ≤ n - (p + 1) → recipe_index_from n p at (ms ++ left) ≡ recipe_index_from n (p + length ms) (at + length ms) left
indices-passed n p at [] left h few =
    let i : at ≡ at + 0 = omega arith in
    let j : p ≡ p + 0 = omega arith in
    ap (λ (z : ℕ). recipe_index_from n z at left) j ∙ ap (λ (z : ℕ). recipe_index_from n (p + 0) z left) i
indices-passed n p at (m ∷ ms) left h few =
    let i : at + 1 + length ms ≡ at + length (m ∷ ms) = omega arith in
    let j : p + 1 + length ms ≡ p + length (m ∷ ms) = omega arith in
    rw (recipe-class m.class h.0, ne_eqb (p + 1) n (λ e. absurd (omega (arith, e, few))))
    (indices-passed n (p + 1) (at + 1) ms left h.1 (omega (arith, few)) ∙ (ap (λ (z : ℕ). recipe_index_from n z (at + 1 + length ms) left) j ∙ ap (λ (z : ℕ). recipe_index_from n (p + length (m ∷ ms)) z left) i))

index-gaps-passed : (n p at : ℕ) (ms left : List LocatedLine) → AreRun Gaps ms → recipe_index_from n p at (ms ++ left) ≡ recipe_index_from n p (at + length ms) left
index-gaps-passed n p at [] left h = let i : at ≡ at + 0 = omega arith in ap (λ (z : ℕ). recipe_index_from n p z left) i
index-gaps-passed n p at (m ∷ ms) left h =
    let i : at + 1 + length ms ≡ at + length (m ∷ ms) = omega arith in
    let G = gap-class m.class h.0 in
    rw (G.no_recipe, G.leaves) (index-gaps-passed n p (at + 1) ms left h.1 ∙ ap (λ (z : ℕ). recipe_index_from n p z left) i)

-- a recipe line of another number, and some of the run of them below it
pub index-recipes : (n p q at next number most : ℕ) (l : LocatedLine) (ahead below left : List LocatedLine) → ahead ≡ l ∷ below → is_recipe_located l.class ≡ true → (p + 1 == n) ≡ false
    → Passes Recipes most number below left → most ≡ n - (p + 1 + 1) → q ≡ p + 1 + number → next ≡ at + (number + 1) → recipe_index_from n p at ahead ≡ recipe_index_from n q next left
index-recipes n p q at next number most l ahead below left a k o x m e f =
    let to : at + 1 + length x.passed ≡ next = omega (arith, f, x.number_is) in
    let count : p + 1 + length x.passed ≡ q = omega (arith, e, x.number_is) in
    rw (a, k, o)
    (ap (recipe_index_from n (p + 1) (at + 1)) x.ahead_is
    ∙ (indices-passed n (p + 1) (at + 1) x.passed left x.are_run (omega (arith, x.few, x.number_is, m))
    ∙ (ap (λ (z : ℕ). recipe_index_from n z (at + 1 + length x.passed) left) count ∙ ap (λ (z : ℕ). recipe_index_from n q z left) to)))

-- a line that stays in the rule, and a run of gaps below it
pub index-gaps : (n p at next number most : ℕ) (l : LocatedLine) (ahead below left : List LocatedLine) → ahead ≡ l ∷ below → is_recipe_located l.class ≡ false → leaves_flag_located l.class ≡ true
    → Passes Gaps most number below left → next ≡ at + (number + 1) → recipe_index_from n p at ahead ≡ recipe_index_from n p next left
index-gaps n p at next number most l ahead below left a k s x f =
    let to : at + 1 + length x.passed ≡ next = omega (arith, f, x.number_is) in
    rw (a, k, s) (ap (recipe_index_from n p (at + 1)) x.ahead_is ∙ (index-gaps-passed n p (at + 1) x.passed left x.are_run ∙ ap (λ (z : ℕ). recipe_index_from n p z left) to))

pub index-stops : (n p at : ℕ) (l : LocatedLine) (ahead below : List LocatedLine) → ahead ≡ l ∷ below → is_recipe_located l.class ≡ false → leaves_flag_located l.class ≡ false → recipe_index_from n p at ahead ≡ None
index-stops n p at l ahead below a k s = rw (a, k, s) refl

pub index-at : (n p at : ℕ) (l : LocatedLine) (ahead below : List LocatedLine) → ahead ≡ l ∷ below → is_recipe_located l.class ≡ true → (p + 1 == n) ≡ true → recipe_index_from n p at ahead ≡ Some at
index-at n p at l ahead below a k o = rw (a, k, o) refl

pub index-none : (n p at : ℕ) (ahead : List LocatedLine) → ahead ≡ [] → recipe_index_from n p at ahead ≡ None
index-none n p at ahead a = rw a refl

-- ---- the lines ahead

-- what is left after some lines
drop-lines : (doc : List LocatedLine) (at : ℕ) (ms left : List LocatedLine) → drop at doc ≡ ms ++ left → drop (at + length ms) doc ≡ left
drop-lines doc at [] left e = let n : at ≡ at + 0 = omega arith in subst (λ (n : ℕ). drop n doc ≡ left) n e
drop-lines doc at (m ∷ ms) left e =
    let n : at + 1 + length ms ≡ at + length (m ∷ ms) = omega arith in
    subst (λ (n : ℕ). drop n doc ≡ left) n (drop-lines doc (at + 1) ms left (drop-step doc (ms ++ left) m at e))

-- what is left after some lines that were passed
pub left-on : (doc : List LocatedLine) (at next number most : ℕ) (run : Run) (below left : List LocatedLine) → drop at doc ≡ below → Passes run most number below left → next ≡ at + number → drop next doc ≡ left
left-on doc at next number most run below left a p n =
    let to : at + length p.passed ≡ next = omega (arith, n, p.number_is) in
    subst (λ (n : ℕ). drop n doc ≡ left) to (drop-lines doc at p.passed left (a ∙ p.ahead_is))

-- ---- contexts

-- one more line of a run, in the context after a line of the run
run-walked : (doc : List LocatedLine) (at : ℕ) (run : Run) (c d : Context) (k : Class) (m : LocatedLine) (rest : List LocatedLine) → d ≡ context_after_located c k → is_in_run run k ≡ true → is_in_run run m.class ≡ true
    → drop at doc ≡ m ∷ rest → IsWalkedTo doc at d → IsWalkedTo doc (at + 1) d
run-walked doc at run c d k m rest e i j h w =
    let same : context_after_located d m.class ≡ d = ap (λ (z : Context). context_after_located z m.class) e ∙ (run-context run c k m.class i j ∙ sym e) in
    subst (IsWalkedTo doc (at + 1)) same (place-stepped doc at d m w.context_is w.admitted (ahead-here doc rest at m h)).next

run-walked-all : (doc : List LocatedLine) (at : ℕ) (run : Run) (c d : Context) (k : Class) (ms left : List LocatedLine) → d ≡ context_after_located c k → is_in_run run k ≡ true → AreRun run ms → drop at doc ≡ ms ++ left → IsWalkedTo doc at d
    → IsWalkedTo doc (at + length ms) d
run-walked-all doc at run c d k [] left e i r h w = let n : at ≡ at + 0 = omega arith in subst (λ (n : ℕ). IsWalkedTo doc n d) n w
run-walked-all doc at run c d k (m ∷ ms) left e i r h w =
    let n : at + 1 + length ms ≡ at + length (m ∷ ms) = omega arith in
    subst (λ (n : ℕ). IsWalkedTo doc n d) n
    (run-walked-all doc (at + 1) run c d k ms left e i r.1 (drop-step doc (ms ++ left) m at h) (run-walked doc at run c d k m (ms ++ left) e i r.0 h w))

-- some lines of the run that the line before them is of
pub walked-on : (doc : List LocatedLine) (at next number most : ℕ) (run : Run) (c d : Context) (k : Class) (below left : List LocatedLine) → drop at doc ≡ below → d ≡ context_after_located c k → is_in_run run k ≡ true
    → Passes run most number below left → next ≡ at + number → IsWalkedTo doc at d → IsWalkedTo doc next d
walked-on doc at next number most run c d k below left a e i p n w =
    let to : at + length p.passed ≡ next = omega (arith, n, p.number_is) in
    subst (λ (n : ℕ). IsWalkedTo doc n d) to (run-walked-all doc at run c d k p.passed left e i p.are_run (a ∙ p.ahead_is) w)
