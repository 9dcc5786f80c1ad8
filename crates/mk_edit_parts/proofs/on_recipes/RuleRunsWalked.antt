-- What a walk down from the header of a rule says of the rule's run.
use Rattle.std.proofs.Common.{◌≡◌, refl, sym, ap, ◌∙◌, arith, ℕ, zero, suc, ◌+◌, ◌-◌, ◌<◌, ◌≤◌, ◌||◌, Bool, true, false, List, [], ◌∷◌, length, length-append, drop, Option, Some, None, option_map}
use Rattle.std.proofs.lemmas.List.{length-drop, length-map}
use Rattle.std.specs.Prelude.{nat_lt, if◌then◌else◌}
use Rattle.std.proofs.lemmas.Bool.{lt-ltb}
use Rattle.mk_lines.specs.Cells.{Cell, joined_byte}
use Rattle.mk_class.specs.Classes.{Class}
use Rattle.mk_class.specs.Classes.Class.{Endef, Body, Recipe, Opaque, Blank, Comment, Assign, DefineHead, If, Else, Endif, Directive, TargetAssign, Rough, Header}
use Rattle.mk_class.specs.Contexts.{conditionals_after, conditionals_after_located}
use Rattle.mk_class.specs.LocatedClasses.{located_class}
use Rattle.mk_class.specs.declared.class.Class as located
use Rattle.mk_class.specs.declared.class.Class.TheVariants as variants
use Rattle.mk_class.specs.ClassedLines.{ClassedLine, classed_lines}
use Rattle.mk_tree.specs.Documents.{IsFaithful}
use Rattle.mk_tree.specs.LocatedLines.{LocatedLine, located_line, located_lines, located_text}
use Rattle.mk_tree.specs.RecipeLines.{recipe_run, after_recipe}
use Rattle.mk_tree.proofs.on_changes.RecipeRunLemmas.{recipe_run-after}
use Rattle.mk_edit_language.specs.Stretches.{Stretch, led_by}
use Rattle.mk_edit_language.specs.RuleRuns.{stands_in_run, run_below}
use Rattle.mk_edit_parts.specs.RecipeWalks.{lines_from}
use Rattle.mk_edit_parts.specs.RuleRunWalks.{stands_located, run_from}
use Rattle.mk_edit_parts.proofs.on_recipes.WalkLemmas.{faithful-from}

-- ---- one line

some-begun : (n : ℕ) (b : Bool) → (nat_lt 0 (suc n) || b) ≡ true
some-begun n b = ap (λ c. c || b) (lt-ltb 0 (suc n) (omega arith))

stands-told : (n : ℕ) (k : Class Cell) → stands_located n (located_class joined_byte k) ≡ stands_in_run n k
stands-told zero Else = refl
stands-told zero Endif = refl
stands-told zero If = refl
stands-told zero Recipe = refl
stands-told zero Blank = refl
stands-told zero Comment = refl
stands-told zero Endef = refl
stands-told zero (Body d) = refl
stands-told zero Opaque = refl
stands-told zero (Assign a p) = refl
stands-told zero (DefineHead p) = refl
stands-told zero Directive = refl
stands-told zero (TargetAssign t) = refl
stands-told zero Rough = refl
stands-told zero (Header h) = refl
stands-told (suc n) Else = some-begun n false
stands-told (suc n) Endif = some-begun n false
stands-told (suc n) If = some-begun n true
stands-told (suc n) Recipe = some-begun n true
stands-told (suc n) Blank = some-begun n true
stands-told (suc n) Comment = some-begun n true
stands-told (suc n) Endef = refl
stands-told (suc n) (Body d) = refl
stands-told (suc n) Opaque = refl
stands-told (suc n) (Assign a p) = refl
stands-told (suc n) (DefineHead p) = refl
stands-told (suc n) Directive = refl
stands-told (suc n) (TargetAssign t) = refl
stands-told (suc n) Rough = refl
stands-told (suc n) (Header h) = refl

-- at most one conditional more is open after a line
pub few-after : (n : ℕ) (k : located.Class) → conditionals_after_located n k ≤ n + 1
few-after n variants.If = omega arith
few-after n variants.Endif = omega arith
few-after n variants.Else = omega arith
few-after n variants.Recipe = omega arith
few-after n variants.Blank = omega arith
few-after n variants.Comment = omega arith
few-after n variants.Endef = omega arith
few-after n (variants.Body d) = omega arith
few-after n variants.Opaque = omega arith
few-after n (variants.Assign a p) = omega arith
few-after n (variants.DefineHead p) = omega arith
few-after n variants.Directive = omega arith
few-after n (variants.TargetAssign t) = omega arith
few-after n variants.Rough = omega arith
few-after n (variants.Header h) = omega arith

-- ---- the whole walk

-- how many lines some run has, below so many that were passed
abbrev counted : (passed : ℕ) → Option Stretch → Option ℕ
counted p o = option_map (λ (s : Stretch). p + length s.lines) o

counted-led : (p : ℕ) (l : ClassedLine) (o : Option Stretch) → counted (p + 1) o ≡ counted p (option_map (led_by l) o)
counted-led p l None = refl
counted-led p l (Some s) = let n : p + 1 + length s.lines ≡ p + length (l ∷ s.lines) = omega arith in ap (λ (n : ℕ). Some n) n

run-told : (n r p : ℕ) (ls : List ClassedLine) → run_from n r p (located_lines ls) ≡ counted p (run_below n r ls)
run-told zero zero p ls = let n : p ≡ p + 0 = omega arith in ap (λ (n : ℕ). Some n) n
run-told zero (suc r) p [] = refl
run-told (suc n) r p [] = refl
run-told zero (suc r) p (l ∷ ls) =
    ap (λ b. if b then run_from (conditionals_after zero l.class) (suc r - 1) (p + 1) (located_lines ls) else None) (stands-told zero l.class)
    ∙ go (stands_in_run zero l.class) (run-told (conditionals_after zero l.class) (suc r - 1) (p + 1) ls)
  where
    go : (b : Bool) → run_from (conditionals_after zero l.class) (suc r - 1) (p + 1) (located_lines ls) ≡ counted (p + 1) (run_below (conditionals_after zero l.class) (suc r - 1) ls)
        → (if b then run_from (conditionals_after zero l.class) (suc r - 1) (p + 1) (located_lines ls) else None)
        ≡ counted p (if b then option_map (led_by l) (run_below (conditionals_after zero l.class) (suc r - 1) ls) else None)
    go true h = h ∙ counted-led p l (run_below (conditionals_after zero l.class) (suc r - 1) ls)
    go false h = refl
run-told (suc n) r p (l ∷ ls) =
    ap (λ b. if b then run_from (conditionals_after (suc n) l.class) (r - 1) (p + 1) (located_lines ls) else None) (stands-told (suc n) l.class)
    ∙ go (stands_in_run (suc n) l.class) (run-told (conditionals_after (suc n) l.class) (r - 1) (p + 1) ls)
  where
    go : (b : Bool) → run_from (conditionals_after (suc n) l.class) (r - 1) (p + 1) (located_lines ls) ≡ counted (p + 1) (run_below (conditionals_after (suc n) l.class) (r - 1) ls)
        → (if b then run_from (conditionals_after (suc n) l.class) (r - 1) (p + 1) (located_lines ls) else None)
        ≡ counted p (if b then option_map (led_by l) (run_below (conditionals_after (suc n) l.class) (r - 1) ls) else None)
    go true h = h ∙ counted-led p l (run_below (conditionals_after (suc n) l.class) (r - 1) ls)
    go false h = refl

-- ---- the steps of the walk

-- one line more
pub run-on : (n r p : ℕ) (ahead left : List LocatedLine) (l : LocatedLine) → 0 < n + r → ahead ≡ l ∷ left → stands_located n l.class ≡ true
    → run_from n r p ahead ≡ run_from (conditionals_after_located n l.class) (r - 1) (p + 1) left
run-on zero zero p ahead left l h e k = absurd (omega (arith, h))
run-on zero (suc r) p ahead left l h e k =
    ap (run_from zero (suc r) p) e ∙ ap (λ b. if b then run_from (conditionals_after_located zero l.class) (suc r - 1) (p + 1) left else None) k
run-on (suc n) r p ahead left l h e k =
    ap (run_from (suc n) r p) e ∙ ap (λ b. if b then run_from (conditionals_after_located (suc n) l.class) (r - 1) (p + 1) left else None) k

-- a line that may not stand there
pub run-stopped : (n r p : ℕ) (ahead left : List LocatedLine) (l : LocatedLine) → 0 < n + r → ahead ≡ l ∷ left → stands_located n l.class ≡ false → run_from n r p ahead ≡ None
run-stopped zero zero p ahead left l h e k = absurd (omega (arith, h))
run-stopped zero (suc r) p ahead left l h e k =
    ap (run_from zero (suc r) p) e ∙ ap (λ b. if b then run_from (conditionals_after_located zero l.class) (suc r - 1) (p + 1) left else None) k
run-stopped (suc n) r p ahead left l h e k =
    ap (run_from (suc n) r p) e ∙ ap (λ b. if b then run_from (conditionals_after_located (suc n) l.class) (r - 1) (p + 1) left else None) k

-- no line
pub run-none : (n r p : ℕ) (ahead : List LocatedLine) → 0 < n + r → ahead ≡ [] → run_from n r p ahead ≡ None
run-none zero zero p ahead h e = absurd (omega (arith, h))
run-none zero (suc r) p ahead h e = ap (run_from zero (suc r) p) e
run-none (suc n) r p ahead h e = ap (run_from (suc n) r p) e

-- the end of the run
pub run-ended : (n r p : ℕ) (ahead : List LocatedLine) → n + r ≤ 0 → run_from n r p ahead ≡ Some p
run-ended zero zero p ahead h = refl
run-ended zero (suc r) p ahead h = absurd (omega (arith, h))
run-ended (suc n) r p ahead h = absurd (omega (arith, h))

-- ---- in a faithful document

-- the recipe below an index ends within the document
pub recipe-few : (ls : List LocatedLine) (at : ℕ) → IsFaithful ls → at ≤ length ls → at + length (recipe_run (lines_from ls at)) ≤ length ls
recipe-few ls at f h =
    let L = lines_from ls at in
    let below : length L ≡ length (recipe_run L) + length (after_recipe L) = ap length (sym (recipe_run-after L)) ∙ length-append (recipe_run L) (after_recipe L) in
    omega (arith, h, below, length-drop at (classed_lines (located_text ls)), ap length f, length-map (classed_lines (located_text ls)) located_line)

counted-none : (o : Option Stretch) → counted 0 o ≡ option_map (λ (s : Stretch). length s.lines) o
counted-none None = refl
counted-none (Some s) = let n : 0 + length s.lines ≡ length s.lines = omega arith in ap (λ (n : ℕ). Some n) n

pub run-found : (ls : List LocatedLine) (at r : ℕ) (o : Option ℕ) → IsFaithful ls → r ≡ length (recipe_run (lines_from ls at)) → o ≡ run_from 0 r 0 (drop at ls)
    → o ≡ option_map (λ (s : Stretch). length s.lines) (run_below 0 (length (recipe_run (lines_from ls at))) (lines_from ls at))
run-found ls at r o f e h =
    h ∙ (ap (run_from 0 r 0) (faithful-from ls at f) ∙ (run-told 0 r 0 (lines_from ls at)
    ∙ (counted-none (run_below 0 r (lines_from ls at)) ∙ ap (λ n. option_map (λ (s : Stretch). length s.lines) (run_below 0 n (lines_from ls at))) e)))
