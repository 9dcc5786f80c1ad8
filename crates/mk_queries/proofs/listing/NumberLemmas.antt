-- The numbers of what is listed are those that edits take.
use Rattle.std.proofs.Common.{◌≡◌, refl, sym, ap, ◌∙◌, arith, ℕ, zero, suc, ◌+◌, if◌then◌else◌, Bool, true, false, ◌||◌, List, [], ◌∷◌, ◌++◌, length, length-append, map, take, Option, Some, None}
use Rattle.std.specs.Prelude.{filter, option_and_then, slice_get}
use Rattle.std.proofs.lemmas.List.{take-map}
use Rattle.std.proofs.lemmas.Slice.Eq.{bytes_eq-Decides}
use Rattle.std.specs.Str.{bytes_eq}
use Rattle.mk_lines.specs.Cells.{Cell}
use Rattle.mk_lines.specs.Lists.{leading}
use Rattle.mk_lines.specs.LogicalLines.{logical_lines}
use Rattle.mk_class.specs.Texts.{is_one_of}
use Rattle.mk_class.specs.Classes.{Class, is_recipe, leaves_flag}
use Rattle.mk_class.specs.Classes.Class.{Endef, Body, Recipe, Opaque, Blank, Comment, Assign, DefineHead, If, Else, Endif, Directive, TargetAssign, Rough, Header}
use Rattle.mk_class.specs.ClassTable.{class_of}
use Rattle.mk_class.specs.ClassedLines.{ClassedLine, classed, classed_lines}
use Rattle.mk_class.specs.Contexts.{Context, start, context_after}
use Rattle.mk_tree.specs.Documents.{document_lines}
use Rattle.mk_tree.specs.LineTexts.{StandingLine}
use Rattle.mk_tree.specs.LocatedLines.{LocatedLine, located_line, located_lines}
use Rattle.mk_tree.specs.RecipeLines.{recipe_lines, rule_lines, stays_in_rule}
use Rattle.mk_tree.specs.Views.{AssignmentView, RuleView, assignment_of, recipe_of, rule_of}
use Rattle.mk_tree.specs.ViewLaws.{SeesAssignment, SeesRule, AssignmentsAreSeen, RulesAreSeen}
use Rattle.mk_edit_language.specs.Edits.{ByNumber}
use Rattle.mk_edit_language.specs.Addresses.{Rule, assigns, found, is_rule_for}
use Rattle.mk_edit_language.specs.Spots.{nth_of, spots, spot_if, under}
use Rattle.mk_edit_language.specs.Stretches.{below_header, recipe_spot}
use Rattle.mk_queries.specs.declared.listing.assignment.AssignmentLine.{AssignmentLine}
use Rattle.mk_queries.specs.Listings.{RecipeSpot, RuleSpot, Spot, Standing, assignment_lines, is_for, is_of, position_below, recipe_spots, rule_spots, rules_ahead, seen, seen_before, seen_recipes, standing_below, stays, whole}
use Rattle.mk_queries.specs.ListingLaws.{AssignmentsAreNumbered, AssignmentsHaveTheirNumbers, RecipeLinesHaveTheirNumbers, RulesAreNumbered, RulesHaveTheirNumbers}
use Rattle.mk_queries.proofs.listing.CountLemmas.{down-more}
use Rattle.mk_queries.specs.Numbers.{count_down_to, line_assigns, line_is_rule_for, shows}

-- where a line stands of which something is seen: its index, how many lines are passed with it, and
-- those below it
abbrev Place : Type 0
Place = ℕ × (ℕ × List LocatedLine)

abbrev place : (index passed : ℕ) → (below : List LocatedLine) → Place
place i n ls = (i, (n, ls))

abbrev at : {V : Type 0} → Spot V → Place
at s = place s.position.index (length s.below.above) s.below.ahead

-- the same of a line that stands below so many others
abbrev stands : ℕ → StandingLine → Place
stands k s = place (k + length s.above) (k + (length s.above + 1)) (located_lines s.below)

-- what is seen of a line, before what is seen of others
first-seen : {V : Type 0} (view : LocatedLine → Option V) (passes : V → Bool) (s : Standing) (v : Option V) (rest : List (Spot V)) (q : Bool) (l : ClassedLine) (ls : List ClassedLine) (k : ℕ) (ss : List StandingLine)
    → shows passes v ≡ q → place s.position.index (length s.below.above) s.below.ahead ≡ stands k (record { above = []; line = l; below = ls }) → map at rest ≡ map (stands k) (map (under l) ss)
    → map at (seen_before view passes s v rest) ≡ map (stands k) (spot_if q (record { above = []; line = l; below = ls }) (map (under l) ss))
first-seen {V} view passes s v rest q l ls k ss same here more = go v q same
  where
    if-seen : (v : V) (p q : Bool) → p ≡ q → map at (if p then record { position = s.position; shown = v; below = s.below } ∷ rest else rest) ≡ map (stands k) (spot_if q (record { above = []; line = l; below = ls }) (map (under l) ss))
    if-seen v true true e = ap (λ z. z ∷ map at rest) here ∙ ap (λ z. stands k (record { above = []; line = l; below = ls }) ∷ z) more
    if-seen v false false e = more
    if-seen v true false e = absurd (cc)
    if-seen v false true e = absurd (cc)

    go : (v : Option V) (q : Bool) → shows passes v ≡ q → map at (seen_before view passes s v rest) ≡ map (stands k) (spot_if q (record { above = []; line = l; below = ls }) (map (under l) ss))
    go None false e = more
    go None true e = absurd (cc)
    go (Some v) q e = if-seen v (passes v) q e

place-is : (i j m n : ℕ) (ls : List LocatedLine) → i ≡ j → m ≡ n → place i m ls ≡ place j n ls
place-is i j m n ls e f = rw (e, f) refl

-- spots with one more line above them
one-above : (k m : ℕ) (l : ClassedLine) (ss : List StandingLine) → m ≡ k + 1 → map (stands m) ss ≡ map (stands k) (map (under l) ss)
one-above k m l [] h = refl
one-above k m l (s ∷ ss) h =
    let index : m + length s.above ≡ k + suc (length s.above) = omega (arith, h) in
    let passed : m + (length s.above + 1) ≡ k + (suc (length s.above) + 1) = omega (arith, h) in
    let first : stands m s ≡ stands k (under l s) = place-is (m + length s.above) (k + suc (length s.above)) (m + (length s.above + 1)) (k + (suc (length s.above) + 1)) (located_lines s.below) index passed in
    ap (λ z. z ∷ map (stands m) ss) first ∙ ap (λ z. stands k (under l s) ∷ z) (one-above k m l ss h)

-- of each line something is seen exactly if it passes a test
abbrev AllSame : {V : Type 0} → (LocatedLine → Option V) → (V → Bool) → (ClassedLine → Bool) → List ClassedLine → Type 0
AllSame view passes test [] = Unit {0}
AllSame view passes test (l ∷ ls) = (shows passes (view (located_line l)) ≡ test l) × AllSame view passes test ls

-- a line as a walk shows it that has others above it
abbrev shown-below : List LocatedLine → ClassedLine → List ClassedLine → Standing
shown-below above l ls = record { position = position_below above; line = located_line l; below = record { above = above ++ located_line l ∷ []; ahead = located_lines ls } }

stands-below : (above : List LocatedLine) (l : ClassedLine) (ls : List ClassedLine)
    → place (length above) (length (above ++ located_line l ∷ [])) (located_lines ls) ≡ stands (length above) (record { above = []; line = l; below = ls })
stands-below above l ls = place-is (length above) (length above + 0) (length (above ++ located_line l ∷ [])) (length above + (0 + 1)) (located_lines ls) (omega arith) (omega (arith, length-append above (located_line l ∷ [])))

-- the lines of which something is seen stand where the spots of the test are
seen-spots : {V : Type 0} (view : LocatedLine → Option V) (passes : V → Bool) (test : ClassedLine → Bool) (above : List LocatedLine) (ls : List ClassedLine) → AllSame view passes test ls
    → map at (seen view passes (standing_below above (located_lines ls))) ≡ map (stands (length above)) (spots test ls)
seen-spots view passes test above [] h = refl
seen-spots view passes test above (l ∷ ls) h =
    let x = located_line l in
    let rest = seen view passes (standing_below (above ++ x ∷ []) (located_lines ls)) in
    let more = seen-spots view passes test (above ++ x ∷ []) ls h.1 in
    first-seen view passes (shown-below above l ls) (view x) rest (test l) l ls (length above) (spots test ls) h.0 (stands-below above l ls)
    (more ∙ one-above (length above) (length (above ++ x ∷ [])) l (spots test ls) (length-append above (x ∷ [])))

nth-mapped : {A B : Type 0} (f : A → B) (k : ℕ) (xs : List A) (i : B) → nth_of k (map f xs) ≡ Some i → (x : A) × ((nth_of k xs ≡ Some x) × (f x ≡ i))
nth-mapped f k [] i h = absurd (cc)
nth-mapped f zero (x ∷ xs) i h = absurd (cc)
nth-mapped f (suc zero) (x ∷ xs) i h = (x, (refl, cc))
nth-mapped f (suc (suc k)) (x ∷ xs) i h = nth-mapped f (suc k) xs i h

-- the k-th of the lines of which something is seen is the k-th spot of the test
meant : {V : Type 0} (view : LocatedLine → Option V) (passes : V → Bool) (test : ClassedLine → Bool) (ls : List ClassedLine) (k : ℕ) (i : Place) → AllSame view passes test ls
    → nth_of k (map at (seen view passes (standing_below [] (located_lines ls)))) ≡ Some i → (s : StandingLine) × ((nth_of k (spots test ls) ≡ Some s) × (stands 0 s ≡ i))
meant view passes test ls k i h e = nth-mapped (stands 0) k (spots test ls) i (ap (nth_of k) (sym (seen-spots view passes test [] ls h)) ∙ e)

-- ---- assignments

name-same : (n : List ℕ) (k : Class Cell) (v : Option AssignmentView) → SeesAssignment k v → shows (is_of (Some n)) v ≡ assigns n k
name-same n (Assign a p) (Some v) h = ap (λ t. bytes_eq t n) h.name
name-same n (Assign a p) None h = absurd h
name-same n Endef v h = ap (shows (is_of (Some n))) h
name-same n (Body b) v h = ap (shows (is_of (Some n))) h
name-same n Recipe v h = ap (shows (is_of (Some n))) h
name-same n Opaque v h = ap (shows (is_of (Some n))) h
name-same n Blank v h = ap (shows (is_of (Some n))) h
name-same n Comment v h = ap (shows (is_of (Some n))) h
name-same n (DefineHead p) v h = ap (shows (is_of (Some n))) h
name-same n If v h = ap (shows (is_of (Some n))) h
name-same n Else v h = ap (shows (is_of (Some n))) h
name-same n Endif v h = ap (shows (is_of (Some n))) h
name-same n Directive v h = ap (shows (is_of (Some n))) h
name-same n Rough v h = ap (shows (is_of (Some n))) h
name-same n (TargetAssign t) v h = ap (shows (is_of (Some n))) h
name-same n (Header d) v h = ap (shows (is_of (Some n))) h

names-same : AssignmentsAreSeen → (n : List ℕ) (c : Context) (ls : List (List ℕ)) → AllSame assignment_of (is_of (Some n)) (λ l. assigns n l.class) (classed c ls)
names-same law n c [] = tt
names-same law n c (l ∷ ls) = (name-same n (class_of c l) (assignment_of (located_line (record { bytes = l; class = class_of c l }))) (law c l), names-same law n (context_after c (class_of c l)) ls)

nth-assignment : (m k : ℕ) (ss : List (Spot AssignmentView)) (a : AssignmentLine) → nth_of k (assignment_lines (m + 1) ss) ≡ Some a
    → (a.nth ≡ m + k) × ((below : ℕ × List LocatedLine) × (nth_of k (map at ss) ≡ Some (place a.position.index below.0 below.1)))
nth-assignment m k [] a h = absurd (cc)
nth-assignment m zero (s ∷ ss) a h = absurd (cc)
nth-assignment m (suc zero) (s ∷ ss) a h =
    let e : record { position = s.position; nth = m + 1; assignment = s.shown } ≡ a = cc in
    (ap (λ (z : AssignmentLine). z.nth) (sym e), ((length s.below.above, s.below.ahead), ap (λ (z : AssignmentLine). Some (place z.position.index (length s.below.above) s.below.ahead)) e))
nth-assignment m (suc (suc k)) (s ∷ ss) a h = let r = nth-assignment (m + 1) (suc k) ss a h in (omega (arith, r.0), r.1)

pub assignments-numbered : AssignmentsAreSeen → AssignmentsHaveTheirNumbers
assignments-numbered law text name k a h =
    let r = nth-assignment 0 k (seen assignment_of (is_of (Some name)) (standing_below [] (document_lines text))) a h in
    let m = meant assignment_of (is_of (Some name)) (λ l. assigns name l.class) (classed_lines text) k (place a.position.index r.1.0.0 r.1.0.1) (names-same law name start (logical_lines text)) r.1.1 in
    (omega (arith, r.0), (m.0, (m.1.0, omega (arith, ap (λ (p : Place). p.0) m.1.1))))

-- ---- rules

target-same : (t : List ℕ) (k : Class Cell) (v : Option RuleView) → SeesRule k v → shows (is_for (Some t)) v ≡ is_rule_for t k
target-same t (Header h) (Some v) e = ap (is_one_of t) e.targets
target-same t (Header h) None e = absurd e
target-same t Endef v e = ap (shows (is_for (Some t))) e
target-same t (Body n) v e = ap (shows (is_for (Some t))) e
target-same t Recipe v e = ap (shows (is_for (Some t))) e
target-same t Opaque v e = ap (shows (is_for (Some t))) e
target-same t Blank v e = ap (shows (is_for (Some t))) e
target-same t Comment v e = ap (shows (is_for (Some t))) e
target-same t (DefineHead p) v e = ap (shows (is_for (Some t))) e
target-same t If v e = ap (shows (is_for (Some t))) e
target-same t Else v e = ap (shows (is_for (Some t))) e
target-same t Endif v e = ap (shows (is_for (Some t))) e
target-same t Directive v e = ap (shows (is_for (Some t))) e
target-same t Rough v e = ap (shows (is_for (Some t))) e
target-same t (Assign a p) v e = ap (shows (is_for (Some t))) e
target-same t (TargetAssign a) v e = ap (shows (is_for (Some t))) e

targets-same : RulesAreSeen → (t : List ℕ) (c : Context) (ls : List (List ℕ)) → AllSame rule_of (is_for (Some t)) (λ l. is_rule_for t l.class) (classed c ls)
targets-same law t c [] = tt
targets-same law t c (l ∷ ls) = (target-same t (class_of c l) (rule_of (located_line (record { bytes = l; class = class_of c l }))) (law c l), targets-same law t (context_after c (class_of c l)) ls)

nth-rule : (m k : ℕ) (ss : List (Spot RuleView)) (r : RuleSpot) → nth_of k (rule_spots (m + 1) ss) ≡ Some r
    → (r.nth ≡ m + k) × (nth_of k (map at ss) ≡ Some (place r.position.index (length r.below.above) r.below.ahead))
nth-rule m k [] r h = absurd (cc)
nth-rule m zero (s ∷ ss) r h = absurd (cc)
nth-rule m (suc zero) (s ∷ ss) r h =
    let e : record { position = s.position; nth = m + 1; rule = s.shown; below = s.below } ≡ r = cc in
    (ap (λ (z : RuleSpot). z.nth) (sym e), ap (λ (z : RuleSpot). Some (place z.position.index (length z.below.above) z.below.ahead)) e)
nth-rule m (suc (suc k)) (s ∷ ss) r h = let f = nth-rule (m + 1) (suc k) ss r h in (omega (arith, f.0), f.1)

-- the rule that is listed with a number, among the lines of the definitions
rule-meant : RulesAreSeen → (text target : List ℕ) (k : ℕ) (r : RuleSpot) → nth_of k (rules_ahead (Some target) 1 (whole (document_lines text))) ≡ Some r
    → (r.nth ≡ k) × ((s : StandingLine) × ((found (classed_lines text) (Rule (Some k) target) ≡ Some s) × (stands 0 s ≡ place r.position.index (length r.below.above) r.below.ahead)))
rule-meant law text target k r h =
    let f = nth-rule 0 k (seen rule_of (is_for (Some target)) (standing_below [] (document_lines text))) r h in
    (omega (arith, f.0), meant rule_of (is_for (Some target)) (λ l. is_rule_for target l.class) (classed_lines text) k (place r.position.index (length r.below.above) r.below.ahead) (targets-same law target start (logical_lines text)) f.1)

pub rules-numbered : RulesAreSeen → RulesHaveTheirNumbers
rules-numbered law text target k r h =
    let m = rule-meant law text target k r h in
    (m.0, (m.1.0, (m.1.1.0, omega (arith, ap (λ (p : Place). p.0) m.1.1.1))))

-- ---- recipe lines

-- a line is seen as a recipe line, and stays in a rule, by its class
recipe-same : (b : List ℕ) (k : Class Cell) → (shows (λ t. true) (recipe_of (located_line (record { bytes = b; class = k }))) ≡ is_recipe k)
    × (stays (located_line (record { bytes = b; class = k })) ≡ stays_in_rule k)
recipe-same b Recipe = (refl, refl)
recipe-same b Endef = (refl, refl)
recipe-same b (Body n) = (refl, refl)
recipe-same b Opaque = (refl, refl)
recipe-same b Blank = (refl, refl)
recipe-same b Comment = (refl, refl)
recipe-same b (Assign a p) = (refl, refl)
recipe-same b (DefineHead p) = (refl, refl)
recipe-same b If = (refl, refl)
recipe-same b Else = (refl, refl)
recipe-same b Endif = (refl, refl)
recipe-same b Directive = (refl, refl)
recipe-same b (TargetAssign t) = (refl, refl)
recipe-same b Rough = (refl, refl)
recipe-same b (Header h) = (refl, refl)

-- the spots of as many lines as pass a test, with one more line in front
kept-spots : (test : ClassedLine → Bool) (q : Bool) (l : ClassedLine) (s : StandingLine) (ls : List ClassedLine) (ss : List StandingLine) → test l ≡ q
    → take (length (filter test (l ∷ ls))) (spot_if q s (map (under l) ss)) ≡ spot_if q s (map (under l) (take (length (filter test ls)) ss))
kept-spots test true l s ls ss e = rw e (ap (λ z. s ∷ z) (take-map (under l) (length (filter test ls)) ss))
kept-spots test false l s ls ss e = rw e (take-map (under l) (length (filter test ls)) ss)

-- a line below the line of a rule, before others
recipe-step : (above : List LocatedLine) (l : ClassedLine) (ls : List ClassedLine) (b c q : Bool) (L : List Standing) (M : List ClassedLine) (ss : List StandingLine)
    → b ≡ c → shows (λ t. true) (recipe_of (located_line l)) ≡ q → is_recipe l.class ≡ q → (q ≡ true → c ≡ true)
    → map at (seen recipe_of (λ t. true) L) ≡ map (stands (length above)) (map (under l) (take (length (filter (λ m. is_recipe m.class) M)) ss))
    → map at (seen recipe_of (λ t. true) (if b then shown-below above l ls ∷ L else []))
    ≡ map (stands (length above)) (take (length (filter (λ m. is_recipe m.class) (if c then l ∷ M else []))) (spot_if q (record { above = []; line = l; below = ls }) (map (under l) ss)))
recipe-step above l ls true true q L M ss e shown is stays more =
    first-seen recipe_of (λ t. true) (shown-below above l ls) (recipe_of (located_line l)) (seen recipe_of (λ t. true) L) q l ls (length above) (take (length (filter (λ m. is_recipe m.class) M)) ss) shown (stands-below above l ls) more
    ∙ ap (map (stands (length above))) (sym (kept-spots (λ m. is_recipe m.class) q l (record { above = []; line = l; below = ls }) M ss is))
recipe-step above l ls false false true L M ss e shown is stays more = let no = stays refl in absurd (cc)
recipe-step above l ls false false false L M ss e shown is stays more = refl
recipe-step above l ls true false q L M ss e shown is stays more = absurd (cc)
recipe-step above l ls false true q L M ss e shown is stays more = absurd (cc)

recipe-stays : (k : Class Cell) (q b : Bool) → is_recipe k ≡ q → q ≡ true → (is_recipe k || b) ≡ true
recipe-stays k q b is holds = rw (is, holds) refl

-- the recipe lines of a rule that are seen stand where those of the definition are
recipes-at : (above : List LocatedLine) (ls : List ClassedLine)
    → map at (seen recipe_of (λ t. true) (leading (λ s. stays s.line) (standing_below above (located_lines ls)))) ≡ map (stands (length above)) (take (length (recipe_lines ls)) (spots (λ l. is_recipe l.class) ls))
recipes-at above [] = refl
recipes-at above (l ∷ ls) =
    let x = located_line l in
    let same = recipe-same l.bytes l.class in
    let ss = spots (λ m. is_recipe m.class) ls in
    recipe-step above l ls (stays x) (stays_in_rule l.class) (is_recipe l.class) (leading (λ s. stays s.line) (standing_below (above ++ x ∷ []) (located_lines ls))) (rule_lines ls) ss
    same.1 same.0 refl (recipe-stays l.class (is_recipe l.class) (leaves_flag l.class) refl)
    (recipes-at (above ++ x ∷ []) ls ∙ one-above (length above) (length (above ++ x ∷ [])) l (take (length (recipe_lines ls)) ss) (length-append above (x ∷ [])))

nth-recipe : (m k : ℕ) (ss : List (Spot (List ℕ))) (r : RecipeSpot) → nth_of k (recipe_spots (m + 1) ss) ≡ Some r
    → (r.number ≡ m + k) × ((below : ℕ × List LocatedLine) × (nth_of k (map at ss) ≡ Some (place r.position.index below.0 below.1)))
nth-recipe m k [] r h = absurd (cc)
nth-recipe m zero (s ∷ ss) r h = absurd (cc)
nth-recipe m (suc zero) (s ∷ ss) r h =
    let e : record { position = s.position; number = m + 1; text = s.shown } ≡ r = cc in
    (ap (λ (z : RecipeSpot). z.number) (sym e), ((length s.below.above, s.below.ahead), ap (λ (z : RecipeSpot). Some (place z.position.index (length s.below.above) s.below.ahead)) e))
nth-recipe m (suc (suc k)) (s ∷ ss) r h = let f = nth-recipe (m + 1) (suc k) ss r h in (omega (arith, f.0), f.1)

nth-of-map : {A B : Type 0} (f : A → B) (k : ℕ) (xs : List A) (x : A) → nth_of k xs ≡ Some x → nth_of k (map f xs) ≡ Some (f x)
nth-of-map f k [] x h = absurd (cc)
nth-of-map f zero (y ∷ ys) x h = absurd (cc)
nth-of-map f (suc zero) (y ∷ ys) x h = let e : y ≡ x = cc in ap (λ z. Some (f z)) e
nth-of-map f (suc (suc k)) (y ∷ ys) x h = nth-of-map f (suc k) ys x h

pub recipes-numbered : RulesAreSeen → RecipeLinesHaveTheirNumbers
recipes-numbered law text target n k rule listed first second =
    let m = rule-meant law text target n rule first in
    let h = m.1.0 in
    let spots_below = take (length (recipe_lines h.below)) (spots (λ l. is_recipe l.class) h.below) in
    let below : located_lines h.below ≡ rule.below.ahead = ap (λ (p : Place). p.1.1) m.1.1.1 in
    let above : 0 + (length h.above + 1) ≡ length rule.below.above = ap (λ (p : Place). p.1.0) m.1.1.1 in
    let there : map at (seen_recipes rule.below) ≡ map (stands (length rule.below.above)) spots_below =
    ap (λ ls. map at (seen recipe_of (λ t. true) (leading (λ s. stays s.line) (standing_below rule.below.above ls)))) (sym below) ∙ recipes-at rule.below.above h.below in
    let f = nth-recipe 0 k (seen_recipes rule.below) listed second in
    let x = nth-mapped (stands (length rule.below.above)) k spots_below (place listed.position.index f.1.0.0 f.1.0.1) (ap (nth_of k) (sym there) ∙ f.1.1) in
    let index : length rule.below.above + length x.0.above ≡ listed.position.index = ap (λ (p : Place). p.0) x.1.1 in (
      omega (arith, f.0),
      (
        below_header h x.0,
        (
          ap (option_and_then (recipe_spot (ByNumber k))) m.1.1.0 ∙ nth-of-map (below_header h) k spots_below x.0 x.1.0,
          omega (arith, above, index, length-append h.above (h.line ∷ x.0.above)),
        ),
      ),
    )

-- ---- numbers by the index of a line

-- a spot behind one more line, which may be counted
nth-behind : (q : Bool) (k : ℕ) (first : StandingLine) (l : ClassedLine) (ss : List StandingLine) (s : StandingLine) → nth_of k ss ≡ Some s
    → nth_of (if q then suc k else k) (spot_if q first (map (under l) ss)) ≡ Some (under l s)
nth-behind false k first l ss s h = nth-of-map (under l) k ss s h
nth-behind true zero first l [] s h = absurd (cc)
nth-behind true zero first l (x ∷ xs) s h = absurd (cc)
nth-behind true (suc k) first l ss s h = nth-of-map (under l) (suc k) ss s h

-- the line with an index of which something is seen is the spot with the number of those down to it
counted : {V : Type 0} (view : LocatedLine → Option V) (passes : V → Bool) (test : ClassedLine → Bool) (ls : List ClassedLine) (i : ℕ) → AllSame view passes test ls
    → shows passes (option_and_then view (slice_get (located_lines ls) i)) ≡ true
    → (s : StandingLine) × ((nth_of (count_down_to i (λ l. shows passes (view l)) (located_lines ls)) (spots test ls) ≡ Some s) × (length s.above ≡ i))
counted view passes test [] i same h = absurd (cc)
counted view passes test (l ∷ ls) zero same h =
    let is : test l ≡ true = sym same.0 ∙ h in
    (record { above = []; line = l; below = ls }, (rw (h, is) refl, refl))
counted view passes test (l ∷ ls) (suc i) same h =
    let r = counted view passes test ls i same.1 h in
    let count = count_down_to i (λ m. shows passes (view m)) (located_lines ls) in
    let more : count_down_to (suc i) (λ m. shows passes (view m)) (located_lines (l ∷ ls)) ≡ (if test l then suc count else count)
    = down-more i (λ m. shows passes (view m)) (located_line l) (located_lines ls) ∙ ap (λ b. if b then suc count else count) same.0 in
    (under l r.0, (ap (λ k. nth_of k (spots test (l ∷ ls))) more ∙ nth-behind (test l) count (record { above = []; line = l; below = ls }) l (spots test ls) r.0 r.1.0, ap suc r.1.1))

pub assignment-numbered : AssignmentsAreSeen → AssignmentsAreNumbered
assignment-numbered law text i a h =
    let own : bytes_eq a.name a.name ≡ true = (bytes_eq-Decides a.name a.name).1 refl in
    let c = counted assignment_of (is_of (Some a.name)) (λ l. assigns a.name l.class) (classed_lines text) i (names-same law a.name start (logical_lines text)) (rw h own) in
    (count_down_to i (line_assigns a.name) (document_lines text), (rw h refl, (c.0, c.1)))

pub rule-numbered : RulesAreSeen → RulesAreNumbered
rule-numbered law text target i h =
    let c = counted rule_of (is_for (Some target)) (λ l. is_rule_for target l.class) (classed_lines text) i (targets-same law target start (logical_lines text)) h in
    (count_down_to i (line_is_rule_for target) (document_lines text), (rw h refl, (c.0, c.1)))
