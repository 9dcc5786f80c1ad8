-- The lines that the removal of a rule takes out are its line and its recipe.
use Rattle.std.proofs.Common.{◌≡◌, refl, sym, ap, ◌∙◌, subst, arith, ℕ, List, [], ◌∷◌, ◌++◌, map, filter, append_assoc, Bool, true, false, not, ◌||◌, ◌&&◌, length, drop, ◌≤◌, Option, Some, option_map, ltb-false}
use Rattle.std.specs.Str.{bytes_eq}
use Rattle.std.specs.List.{list_any}
use Rattle.std.proofs.lemmas.Bool.{or_parts, not-true, not-false}
use Rattle.std.proofs.Math.Seq.{drop-append_seam}
use Rattle.std.specs.Prelude.{Ok, if◌then◌else◌, nat_lt}
use Rattle.mk_lines.specs.Lists.{trailing, after_leading, Each, FirstFails, LastFails}
use Rattle.mk_lines.proofs.on_lists.ListLemmas.{trailing-each, after_leading-first_fails, trim_end-trailing, trim_end-last_fails, leading-after_leading}
use Rattle.mk_lines.specs.PhysicalLines.{without_line_end}
use Rattle.mk_lines.specs.Cells.{Cell, joined_byte}
use Rattle.mk_lines.specs.Pieces.{Replacement}
use Rattle.mk_class.specs.ListTests.{first_passes}
use Rattle.mk_class.specs.Texts.{is_one_of, word_texts}
use Rattle.mk_class.specs.Classes.{Class, is_conditional, is_recipe}
use Rattle.mk_class.specs.Classes.Class.{Endef, Body, Recipe, Opaque, Blank, Comment, Assign, DefineHead, If, Else, Endif, Directive, TargetAssign, Rough, Header}
use Rattle.mk_class.specs.ClassedLines.{ClassedLine, classed_lines}
use Rattle.std.proofs.lemmas.Slice.Eq.{bytes_eq-Decides}
use Rattle.mk_tree.specs.RecipeLines.{stays_in_rule, ends_rule, rule_lines, recipe_run, after_recipe}
use Rattle.mk_tree.proofs.on_changes.RecipeRunLemmas.{recipe_run-after, recipe_run-stays}
use Rattle.mk_tree.specs.Items
use Rattle.mk_tree.specs.Items.{items, items_of_line, header_item}
use Rattle.mk_tree.proofs.on_documents.LinesInText.{items-append}
use Rattle.mk_tree.specs.LineTexts.{StandingLine}
use Rattle.mk_edit_language.specs.Edits.{OfRule, RemoveLines}
use Rattle.mk_edit_language.specs.Addresses.{Rule, is_rule_for, found}
use Rattle.mk_edit_language.specs.Stretches.{whole_rule}
use Rattle.mk_edit_language.specs.RuleCauses.{class_found, targets_found, has_conditional}
use Rattle.mk_edit_language.specs.Refusals.{spans}
use Rattle.mk_edit_language.proofs.on_edits.Accepted.{accepted, where_holds-none}
use Rattle.mk_edit_language.proofs.on_lines.SpotLemmas.{picked-is, rule-found}
use Rattle.mk_edit_language.proofs.on_edits.EditedLineLemmas.{removed-lines}
use Rattle.mk_edit_language.specs.RuleTaken.{is_of_recipe, ends_in_recipe, recipe_goes_on, commands, is_recipe_item, TakesTheRuleAlone}
use Rattle.mk_edit_language.specs.declared.refusal.Refusal.TheVariants.{NoSuch, Straddles}

-- ---- the target

-- a word among fewer than two is the only one
pub only-word : (w : List ℕ) (ws : List (List ℕ)) → is_one_of w ws ≡ true → nat_lt 1 (length ws) ≡ false → ws ≡ w ∷ []
only-word w [] h n = absurd (cc)
only-word w (x ∷ []) h n = go (bytes_eq w x) refl h
  where
    go : (b : Bool) → bytes_eq w x ≡ b → (b || false) ≡ true → x ∷ [] ≡ w ∷ []
    go true e k = ap (λ z. z ∷ []) (sym ((bytes_eq-Decides w x).0 e))
    go false e k = absurd (cc)
only-word w (x ∷ y ∷ ws) h n = let k : length (x ∷ y ∷ ws) ≤ 1 = ltb-false 1 (length (x ∷ y ∷ ws)) n in absurd (omega (arith, k))

-- ---- the lines of a rule

-- a line that stays in a rule and is of no conditional is a recipe line, or reads as nothing
class-of_recipe : (k : Class Cell) → stays_in_rule k ≡ true → is_conditional k ≡ false → is_of_recipe k ≡ true
class-of_recipe Recipe h n = refl
class-of_recipe Blank h n = refl
class-of_recipe Comment h n = refl
class-of_recipe If h n = absurd (cc)
class-of_recipe Else h n = absurd (cc)
class-of_recipe Endif h n = absurd (cc)
class-of_recipe Endef h n = absurd (cc)
class-of_recipe (Body d) h n = absurd (cc)
class-of_recipe Opaque h n = absurd (cc)
class-of_recipe (Assign a p) h n = absurd (cc)
class-of_recipe (DefineHead p) h n = absurd (cc)
class-of_recipe Directive h n = absurd (cc)
class-of_recipe (TargetAssign a) h n = absurd (cc)
class-of_recipe Rough h n = absurd (cc)
class-of_recipe (Header x) h n = absurd (cc)

lines-of_recipe : (ls : List ClassedLine) → Each (λ l. stays_in_rule l.class) ls → list_any (λ l. is_conditional l.class) ls ≡ false → Each (λ l. is_of_recipe l.class) ls
lines-of_recipe [] h n = tt
lines-of_recipe (l ∷ ls) h n =
    let p = or_parts (is_conditional l.class) (list_any (λ m. is_conditional m.class) ls) n in
    (class-of_recipe l.class h.0 p.0, lines-of_recipe ls h.1 p.1)

-- the last of trimmed lines is a recipe line
last-recipe : (ls : List ClassedLine) → LastFails (λ l. not (is_recipe l.class)) ls → ends_in_recipe ls ≡ true
last-recipe [] h = refl
last-recipe (l ∷ []) h = not-false (is_recipe l.class) h
last-recipe (l ∷ m ∷ ls) h = last-recipe (m ∷ ls) h

-- a line that does not stay in a rule is no recipe line, and ends the rule
class-ends : (k : Class Cell) → stays_in_rule k ≡ false → (is_recipe k ≡ false) × (ends_rule k ≡ true)
class-ends Recipe h = absurd (cc)
class-ends Blank h = absurd (cc)
class-ends Comment h = absurd (cc)
class-ends If h = absurd (cc)
class-ends Else h = absurd (cc)
class-ends Endif h = absurd (cc)
class-ends Endef h = (refl, refl)
class-ends (Body d) h = (refl, refl)
class-ends Opaque h = (refl, refl)
class-ends (Assign a p) h = (refl, refl)
class-ends (DefineHead p) h = (refl, refl)
class-ends Directive h = (refl, refl)
class-ends (TargetAssign a) h = (refl, refl)
class-ends Rough h = (refl, refl)
class-ends (Header x) h = (refl, refl)

no-more : (ls below : List ClassedLine) → Each (λ l. not (is_recipe l.class)) ls → FirstFails (λ l. stays_in_rule l.class) below → recipe_goes_on (ls ++ below) ≡ false
no-more [] [] h k = refl
no-more [] (b ∷ below) h k = let p = class-ends b.class k in rw (p.0, p.1) refl
no-more (l ∷ ls) below h k = rw (not-true (is_recipe l.class) h.0, no-more ls below h.1 k) (go (not (ends_rule l.class)))
  where
    go : (b : Bool) → (b && false) ≡ false
    go true = refl
    go false = refl

-- below its last recipe line a rule does not go on
pub after_recipe-ends : (ls : List ClassedLine) → recipe_goes_on (after_recipe ls) ≡ false
after_recipe-ends ls =
    let p : ClassedLine → Bool = λ l. not (is_recipe l.class) in
    let q : ClassedLine → Bool = λ l. stays_in_rule l.class in
    let a = trailing p (rule_lines ls) in
    let b = after_leading q ls in
    let whole : recipe_run ls ++ (a ++ b) ≡ ls =
    sym (append_assoc (recipe_run ls) a b) ∙ (ap (λ z. z ++ b) (trim_end-trailing p (rule_lines ls)) ∙ leading-after_leading q ls) in
    let e : after_recipe ls ≡ a ++ b = ap (drop (length (recipe_run ls))) (sym whole) ∙ drop-append_seam (recipe_run ls) (a ++ b) in
    ap recipe_goes_on e ∙ no-more a b (trailing-each p (rule_lines ls)) (after_leading-first_fails q ls)

-- ---- the reading

-- the lines of a recipe read as its recipe lines
recipe-items : (ls : List ClassedLine) → Each (λ l. is_of_recipe l.class) ls → items ls ≡ map Items.Recipe (commands ls)
recipe-items [] h = refl
recipe-items (l ∷ ls) h = go l.class h.0 (recipe-items ls h.1)
  where
    go : (k : Class Cell) → is_of_recipe k ≡ true → items ls ≡ map Items.Recipe (commands ls)
        → items_of_line k l.bytes ++ items ls ≡ map Items.Recipe (map (λ m. drop 1 (without_line_end m.bytes)) (if is_recipe k then l ∷ filter (λ m. is_recipe m.class) ls else filter (λ m. is_recipe m.class) ls))
    go Recipe e i = ap (λ z. Items.Recipe (drop 1 (without_line_end l.bytes)) ∷ z) i
    go Blank e i = i
    go Comment e i = i
    go If e i = absurd (cc)
    go Else e i = absurd (cc)
    go Endif e i = absurd (cc)
    go Endef e i = absurd (cc)
    go (Body d) e i = absurd (cc)
    go Opaque e i = absurd (cc)
    go (Assign a p) e i = absurd (cc)
    go (DefineHead p) e i = absurd (cc)
    go Directive e i = absurd (cc)
    go (TargetAssign a) e i = absurd (cc)
    go Rough e i = absurd (cc)
    go (Header x) e i = absurd (cc)

-- if a rule does not go on, the next item is not that of a recipe line
next-item : (ls : List ClassedLine) → recipe_goes_on ls ≡ false → first_passes is_recipe_item (items ls) ≡ false
next-item [] h = refl
next-item (l ∷ ls) h = go l.class h (next-item ls)
  where
    go : (k : Class Cell) → (is_recipe k || (not (ends_rule k) && recipe_goes_on ls)) ≡ false → (recipe_goes_on ls ≡ false → first_passes is_recipe_item (items ls) ≡ false)
        → first_passes is_recipe_item (items_of_line k l.bytes ++ items ls) ≡ false
    go Recipe e i = absurd (cc)
    go Blank e i = i e
    go Comment e i = i e
    go If e i = refl
    go Else e i = refl
    go Endif e i = refl
    go Endef e i = refl
    go (Body d) e i = refl
    go Opaque e i = refl
    go (Assign a p) e i = refl
    go (DefineHead p) e i = refl
    go Directive e i = refl
    go (TargetAssign a) e i = refl
    go Rough e i = refl
    go (Header x) e i = refl

-- ---- the law

pub remove_rule-takes : (nth : Option ℕ) (g t : List ℕ) (rs : List Replacement) → spans t (RemoveLines (OfRule nth g)) ≡ Ok rs → TakesTheRuleAlone nth g t
remove_rule-takes nth g t rs h =
    let e = RemoveLines (OfRule nth g) in
    let ls = classed_lines t in
    let A = accepted t e rs h in
    let F = rule-found ls nth g (where_holds-none _ NoSuch A.is_there) (where_holds-none _ _ A.is_one) in
    let s = F.spot in
    let H = F.header in
    let run = recipe_run s.below in
    let rest = after_recipe s.below in
    let passes : is_rule_for g s.line.class ≡ true = (picked-is (λ l. is_rule_for g l.class) ls nth s F.found_is).passes in
    let one_of : is_one_of g (word_texts joined_byte H.targets) ≡ true = sym (ap (is_rule_for g) F.class_is) ∙ passes in
    let targets : targets_found (class_found (found ls (Rule nth g))) ≡ word_texts joined_byte H.targets =
    ap (λ (o : Option StandingLine). targets_found (class_found o)) F.found_is ∙ ap (λ (k : Class Cell). targets_found (Some k)) F.class_is in
    let few : nat_lt 1 (length (word_texts joined_byte H.targets)) ≡ false = ap (λ z. nat_lt 1 (length z)) (sym targets) ∙ where_holds-none _ _ A.not_shared in
    let plain : has_conditional (Some s) ≡ false = subst (λ (z : Option StandingLine). has_conditional z ≡ false) F.found_is (where_holds-none _ Straddles A.not_straddling) in
    let of_recipe = lines-of_recipe run (recipe_run-stays s.below) plain in
    let before : ls ≡ s.above ++ (s.line ∷ (run ++ rest)) = F.whole ∙ ap (λ z. s.above ++ s.line ∷ z) (sym (recipe_run-after s.below)) in
    let after = removed-lines e t rs (whole_rule s) h (ap (option_map whole_rule) F.found_is) in
    let first : items_of_line s.line.class s.line.bytes ≡ header_item H ∷ [] = ap (λ (k : Class Cell). items_of_line k s.line.bytes) F.class_is in
    let cs = map Items.Recipe (commands run) in
    let taken : items (s.line ∷ run) ≡ header_item H ∷ cs = ap (λ z. z ++ items run) first ∙ ap (λ z. header_item H ∷ z) (recipe-items run of_recipe) in
    let no_more = after_recipe-ends s.below in
    record {
      rule = s;
      header = H;
      recipe = run;
      rest = rest;
      addressed = F.found_is;
      is_header = F.class_is;
      only_target = only-word g (word_texts joined_byte H.targets) one_of few;
      lines_before = before;
      lines_after = after;
      of_recipe = of_recipe;
      last = last-recipe run (trim_end-last_fails (λ l. not (is_recipe l.class)) (rule_lines s.below));
      no_more = no_more;
      taken = taken;
      reading_before =
          ap items before
          ∙ (items-append s.above ((s.line ∷ run) ++ rest) ∙ ap (λ z. items s.above ++ z) (items-append (s.line ∷ run) rest ∙ ap (λ z. z ++ items rest) taken));
      reading_after = ap items after ∙ items-append s.above rest;
      next_item = next-item rest no_more;
    }
