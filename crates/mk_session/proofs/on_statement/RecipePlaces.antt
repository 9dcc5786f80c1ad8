-- Recipe lines in the text of a makefile: the byte that begins them, and the line of the rule above them.
use Rattle.std.proofs.Common.{◌≡◌, refl, sym, ap, ◌∙◌, subst, arith, ℕ, zero, suc, List, [], ◌∷◌, ◌++◌, map, take, drop, filter, cond, length, Bool, true, false, Option, Some, None, inl, inr}
use Rattle.std.specs.Prelude.{◌⊎◌, ◌<◌, slice_index_or, option_and_then, codes, nat_lt}
use Rattle.std.specs.List.{Any}
use Rattle.std.proofs.lemmas.Bool.{eqb-true}
use Rattle.std.proofs.lemmas.Slice.Eq.{bytes_eq-Decides}
use Rattle.mk_lines.specs.Lists.{concat}
use Rattle.mk_lines.specs.PhysicalLines.{without_line_end, line_end, line_end_bytes}
use Rattle.mk_lines.proofs.on_lines.LineEndLemmas.{without_line_end-line_end}
use Rattle.mk_lines.specs.Cells.{Cell, joined_byte, raw_text}
use Rattle.mk_class.specs.Texts.{unit_text}
use Rattle.mk_class.specs.RecipePrefix.{is_prefix_led, is_prefix_name}
use Rattle.mk_class.specs.Assignments.{Assignment, before_value}
use Rattle.mk_class.specs.Classes.{Class, is_recipe}
use Rattle.mk_class.specs.Classes.Class.{Endef, Body, Recipe, Opaque, Blank, Comment, Assign, DefineHead, If, Else, Endif, Directive, TargetAssign, Rough, Header}
use Rattle.mk_class.specs.Contexts.{Context, start, context_after}
use Rattle.mk_class.specs.ClassTable.{class_of}
use Rattle.mk_class.specs.ClassedLines.{ClassedLine, classed_lines, context_after_lines}
use Rattle.mk_tree.specs.LineTexts.{StandingLine, context_of, bytes_of}
use Rattle.mk_tree.specs.RecipeLines.{recipe_run, recipe_lines}
use Rattle.mk_tree.proofs.on_documents.LinesInText.{AreClassed, AreClassed-class, AreClassed-tail, bytes_of-append, line-in_text}
use Rattle.mk_edit_language.specs.Edits.{RecipeLine, ByNumber, ByText, RecipePlace}
use Rattle.mk_edit_language.specs.Spots.{spots, nth_of}
use Rattle.mk_edit_language.specs.Addresses.{found, is_rule_for}
use Rattle.mk_edit_language.specs.Addresses as addresses
use Rattle.mk_edit_language.specs.Stretches.{Stretch, below_header, has_text, recipe_spots, recipe_spot, recipe_found, recipe_gap, recipe_place}
use Rattle.mk_edit_language.proofs.on_edits.EditPlaces.{place-is}
use Rattle.mk_edit_language.proofs.on_lines.SpotLemmas.{picked-is}
use Rattle.mk_edit_language.proofs.on_recipes.RecipeClassLemmas.{recipe-stands}
use Rattle.mk_edit_language.proofs.on_values.FoundAssignments.{no_prefix-set, prefix-of_class}
use Rattle.mk_session.specs.Statement.{Has, Names, IsRecipe, Lines}
use Rattle.mk_session.proofs.on_statement.CellTexts.{has-nothing, has-in, has-left, solid-all}
use Rattle.mk_session.proofs.on_statement.LineWords.{names-has, assign-line, rule-names}

-- ---- some of the lines

any-first : (P : List ℕ → Type 0) (l : List ℕ) (ls : Lines) → P l → Any P (l ∷ ls)
any-first P l ls h = (0, l, omega arith, refl, h)

any-later : (P : List ℕ → Type 0) (l : List ℕ) (ls : Lines) → Any P ls → Any P (l ∷ ls)
any-later P l ls h = (suc h.0, h.1, omega (arith, h.2), h.3, h.4)

pub any-there : (P : List ℕ → Type 0) (above : Lines) (l : List ℕ) (below : Lines) → P l → Any P (above ++ l ∷ below)
any-there P [] l below h = any-first P l below h
any-there P (a ∷ above) l below h = any-later P a (above ++ l ∷ below) (any-there P above l below h)

-- some of the first lines
pub any-in : (P : List ℕ → Type 0) (ls ms : Lines) → Any P ls → Any P (ls ++ ms)
any-in P [] ms h = absurd (omega (arith, h.2))
any-in P (l ∷ ls) ms h = go h.0 h.1 h.2 h.3 h.4 (λ k. any-in P ls ms k)
  where
    go : (k : ℕ) (x : List ℕ) → k < length (l ∷ ls) → slice_index_or (l ∷ ls) k x ≡ x → P x → (Any P ls → Any P (ls ++ ms)) → Any P (l ∷ (ls ++ ms))
    go zero x m e p more = any-first P l (ls ++ ms) (subst P (sym e) p)
    go (suc k) x m e p more = any-later P l (ls ++ ms) (more (k, x, omega (arith, m), e, p))

-- ---- the recipe prefix

-- a line that sets the recipe prefix has its name
assign-sets : (c : Context) (l : List ℕ) (a : Assignment Cell) (b : ℕ) → class_of c l ≡ Assign a (Some b) → Has (codes ".RECIPEPREFIX") l
assign-sets c l a b k = go (is_prefix_name (unit_text joined_byte a.name)) refl
  where
    go : (x : Bool) → is_prefix_name (unit_text joined_byte a.name) ≡ x → Has (codes ".RECIPEPREFIX") l
    go true e =
        let n = codes ".RECIPEPREFIX" in
        let L = assign-line c n l (Assign a (Some b)) k e in
        let F = raw_text (concat (before_value L.assigned)) in
        has-in n l (F ++ L.rest) L.whole (has-left n F L.rest (names-has n 61 F (solid-all n refl) L.front))
    go false e = absurd (let no : Some b ≡ None = prefix-of_class c l a (Some b) k ∙ no_prefix-set (nat_lt 0 c.conditionals) a e in cc)

-- a line leaves the prefix as it is, or has its name
line-prefix : (c : Context) (l : List ℕ) (k : Class Cell) → class_of c l ≡ k → ((context_after c k).prefix ≡ c.prefix) ⊎ Has (codes ".RECIPEPREFIX") l
line-prefix c l (Assign a None) e = inl refl
line-prefix c l (Assign a (Some b)) e = inr (assign-sets c l a b e)
line-prefix c l Endef e = inl refl
line-prefix c l (Body d) e = inl refl
line-prefix c l Recipe e = inl refl
line-prefix c l Opaque e = inl refl
line-prefix c l Blank e = inl refl
line-prefix c l Comment e = inl refl
line-prefix c l (DefineHead p) e = inl refl
line-prefix c l If e = inl refl
line-prefix c l Else e = inl refl
line-prefix c l Endif e = inl refl
line-prefix c l Directive e = inl refl
line-prefix c l (TargetAssign t) e = inl refl
line-prefix c l Rough e = inl refl
line-prefix c l (Header h) e = inl refl

lines-prefix : (c : Context) (ls : List ClassedLine) → AreClassed c ls → ((context_after_lines c ls).prefix ≡ c.prefix) ⊎ Any (Has (codes ".RECIPEPREFIX")) (bytes_of ls)
lines-prefix c [] h = inl refl
lines-prefix c (l ∷ ls) h = go (line-prefix c l.bytes l.class (AreClassed-class c l ls h)) (lines-prefix (context_after c l.class) ls (AreClassed-tail c l ls h))
  where
    go : ((context_after c l.class).prefix ≡ c.prefix) ⊎ Has (codes ".RECIPEPREFIX") l.bytes
        → ((context_after_lines (context_after c l.class) ls).prefix ≡ (context_after c l.class).prefix) ⊎ Any (Has (codes ".RECIPEPREFIX")) (bytes_of ls)
        → ((context_after_lines (context_after c l.class) ls).prefix ≡ c.prefix) ⊎ Any (Has (codes ".RECIPEPREFIX")) (l.bytes ∷ bytes_of ls)
    go (inl a) (inl b) = inl (b ∙ a)
    go (inl a) (inr b) = inr (any-later (Has (codes ".RECIPEPREFIX")) l.bytes (bytes_of ls) b)
    go (inr a) b = inr (any-first (Has (codes ".RECIPEPREFIX")) l.bytes (bytes_of ls) a)

-- the prefix below some lines
prefix-above : (above : List ClassedLine) → AreClassed start above → ((context_of above).prefix ≡ 9) ⊎ Any (Has (codes ".RECIPEPREFIX")) (bytes_of above)
prefix-above above h = lines-prefix start above h

-- a line that begins with the prefix
pub led-is_recipe : (above : List ClassedLine) (l : List ℕ) (p : ℕ) → AreClassed start above → (context_of above).prefix ≡ p → is_prefix_led p l ≡ true → IsRecipe (bytes_of above) l
led-is_recipe above [] p h i e = absurd (cc)
led-is_recipe above (b ∷ r) p h i e = go (prefix-above above h)
  where
    same : b ≡ p
    same = eqb-true b p e

    go : ((context_of above).prefix ≡ 9) ⊎ Any (Has (codes ".RECIPEPREFIX")) (bytes_of above) → IsRecipe (bytes_of above) (b ∷ r)
    go (inl a) = inl (ap (λ z. z ∷ []) (same ∙ (sym i ∙ a)))
    go (inr a) = inr (omega arith, a)

-- the byte that begins a recipe line: with any other bytes behind it, it is one too
pub recipe-led : (up : Lines) (l : List ℕ) → IsRecipe up l → (p : ℕ) × (c : List ℕ) × (l ≡ p ∷ c) × ((r : List ℕ) → IsRecipe up (p ∷ r))
recipe-led up [] (inl e) = absurd (cc)
recipe-led up [] (inr h) = absurd (omega (arith, h.0))
recipe-led up (b ∷ c) (inl e) = (b, c, refl, λ r. inl e)
recipe-led up (b ∷ c) (inr h) = (b, c, refl, λ r. inr (omega arith, h.1))

-- a recipe line of a text
pub recipe-line : (t : List ℕ) (above : List ClassedLine) (l : ClassedLine) (below : List ClassedLine) → classed_lines t ≡ above ++ l ∷ below → is_recipe l.class ≡ true → IsRecipe (bytes_of above) l.bytes
recipe-line t above l below w r =
    let L = line-in_text t above l below w in
    led-is_recipe above l.bytes (context_of above).prefix L.above_classed refl (recipe-stands (context_of above) l.bytes (ap is_recipe L.class ∙ r)).is_led

-- ---- the line of the rule

-- a place below the line of a rule
record IsBelow (h : StandingLine) (above : List ClassedLine) : Type 0 where
  rest : List ClassedLine
  above_is : above ≡ h.above ++ h.line ∷ rest

AreBelow : StandingLine → List StandingLine → Type 0
AreBelow h [] = Unit {0}
AreBelow h (s ∷ ss) = IsBelow h s.above × AreBelow h ss

map-below : (h : StandingLine) (ss : List StandingLine) → AreBelow h (map (below_header h) ss)
unfolding AreBelow
map-below h [] = tt
map-below h (s ∷ ss) = (record { rest = s.above; above_is = refl }, map-below h ss)

filter-below : (h : StandingLine) (p : StandingLine → Bool) (ss : List StandingLine) → AreBelow h ss → AreBelow h (filter p ss)
unfolding AreBelow
filter-below h p [] b = tt
filter-below h p (s ∷ ss) b = go (p s) (filter-below h p ss b.1)
  where
    go : (x : Bool) → AreBelow h (filter p ss) → AreBelow h (cond x (s ∷ filter p ss) (filter p ss))
    go true k = (b.0, k)
    go false k = k

nth-below : (h : StandingLine) (n : ℕ) (ss : List StandingLine) (s : StandingLine) → AreBelow h ss → nth_of n ss ≡ Some s → IsBelow h s.above
unfolding AreBelow
nth-below h n [] s b e = absurd (cc)
nth-below h zero (q ∷ ss) s b e = absurd (cc)
nth-below h (suc zero) (q ∷ ss) s b e = let k : q ≡ s = cc in subst (λ (z : StandingLine). IsBelow h z.above) k b.0
nth-below h (suc (suc n)) (q ∷ ss) s b e = nth-below h (suc n) ss s b.1 e

recipe_spot-below : (h : StandingLine) (w : RecipeLine) (s : StandingLine) → recipe_spot w h ≡ Some s → IsBelow h s.above
recipe_spot-below h (ByNumber k) s e = nth-below h k (recipe_spots h) s (map-below h (take (length (recipe_lines h.below)) (spots (λ l. is_recipe l.class) h.below))) e
recipe_spot-below h (ByText o) s e =
    nth-below h 1 (filter (has_text o) (recipe_spots h)) s
    (filter-below h (has_text o) (recipe_spots h) (map-below h (take (length (recipe_lines h.below)) (spots (λ l. is_recipe l.class) h.below)))) e

-- the line of a rule that stands above
rule-above : (t g : List ℕ) (nth : Option ℕ) (h : StandingLine) (above : List ClassedLine) → found (classed_lines t) (addresses.Rule nth g) ≡ Some h → IsBelow h above → Any (Names g 58) (bytes_of above)
rule-above t g nth h above e b =
    let S = picked-is (λ l. is_rule_for g l.class) (classed_lines t) nth h e in
    let L = line-in_text t h.above h.line h.below S.whole in
    let names = rule-names (context_of h.above) g h.line.bytes h.line.class L.class S.passes in
    let lines : bytes_of above ≡ bytes_of h.above ++ h.line.bytes ∷ bytes_of b.rest = ap bytes_of b.above_is ∙ bytes_of-append h.above (h.line ∷ b.rest) in
    subst (Any (Names g 58)) (sym lines) (any-there (Names g 58) (bytes_of h.above) h.line.bytes (bytes_of b.rest) names)

-- above a recipe line of a rule
pub recipe_found-below : (t g : List ℕ) (nth : Option ℕ) (w : RecipeLine) (s : StandingLine) → recipe_found (classed_lines t) nth g w ≡ Some s → Any (Names g 58) (bytes_of s.above)
recipe_found-below t g nth w s e = go (found (classed_lines t) (addresses.Rule nth g)) refl e
  where
    go : (o : Option StandingLine) → found (classed_lines t) (addresses.Rule nth g) ≡ o → option_and_then (recipe_spot w) o ≡ Some s → Any (Names g 58) (bytes_of s.above)
    go None i k = absurd (cc)
    go (Some h) i k = rule-above t g nth h s.above i (recipe_spot-below h w s k)

-- above the place for a new one
pub recipe_place-below : (t g : List ℕ) (nth : Option ℕ) (p : RecipePlace) (s : Stretch) → recipe_place (classed_lines t) nth g p ≡ Some s → Any (Names g 58) (bytes_of s.above)
recipe_place-below t g nth p s e = go (found (classed_lines t) (addresses.Rule nth g)) refl e
  where
    go : (o : Option StandingLine) → found (classed_lines t) (addresses.Rule nth g) ≡ o → option_and_then (recipe_gap p) o ≡ Some s → Any (Names g 58) (bytes_of s.above)
    go None i k = absurd (cc)
    go (Some h) i k =
        rule-above t g nth h s.above i
        (place-is (λ (z : Stretch). IsBelow h z.above) h p (λ n r j. recipe_spot-below h (ByNumber n) r j) (record { rest = recipe_run h.below; above_is = refl }) s k)

-- ---- a recipe line of a text

nth-passes : (p : StandingLine → Bool) (n : ℕ) (ss : List StandingLine) (s : StandingLine) → nth_of n (filter p ss) ≡ Some s → p s ≡ true
nth-passes p n [] s e = absurd (cc)
nth-passes p n (q ∷ ss) s e = go (p q) refl n e (λ m k. nth-passes p m ss s k)
  where
    go : (x : Bool) → p q ≡ x → (n : ℕ) → nth_of n (cond x (q ∷ filter p ss) (filter p ss)) ≡ Some s → ((m : ℕ) → nth_of m (filter p ss) ≡ Some s → p s ≡ true) → p s ≡ true
    go false i n k more = more n k
    go true i zero k more = absurd (cc)
    go true i (suc zero) k more = let same : q ≡ s = cc in ap p (sym same) ∙ i
    go true i (suc (suc n)) k more = more (suc n) k

-- a line has its text, which stands behind the first byte and before the line end
text-has : (l o : List ℕ) → drop 1 (without_line_end l) ≡ o → Has o l
text-has l o h = go (without_line_end l) refl h
  where
    go : (x : List ℕ) → without_line_end l ≡ x → drop 1 x ≡ o → Has o l
    go [] i k = subst (λ z. Has z l) k (has-nothing l)
    go (b ∷ r) i k =
        let end = line_end_bytes (line_end l) in
        has-in o l ((b ∷ r) ++ end) (sym (without_line_end-line_end l) ∙ ap (λ z. z ++ end) i) (subst (λ z. Has z ((b ∷ r) ++ end)) k (b ∷ [], end, refl))

-- the text by which a recipe line is meant
abbrev pub text_meant : RecipeLine → List ℕ
text_meant (ByNumber k) = []
text_meant (ByText o) = o

-- the line that is meant has it
pub recipe_found-has : (t g : List ℕ) (nth : Option ℕ) (w : RecipeLine) (s : StandingLine) → recipe_found (classed_lines t) nth g w ≡ Some s → Has (text_meant w) s.line.bytes
recipe_found-has t g nth (ByNumber k) s e = has-nothing s.line.bytes
recipe_found-has t g nth (ByText o) s e = go (found (classed_lines t) (addresses.Rule nth g)) e
  where
    go : (f : Option StandingLine) → option_and_then (recipe_spot (ByText o)) f ≡ Some s → Has o s.line.bytes
    go None k = absurd (cc)
    go (Some h) k = text-has s.line.bytes o ((bytes_eq-Decides (drop 1 (without_line_end s.line.bytes)) o).0 (nth-passes (has_text o) 1 (recipe_spots h) s k))
