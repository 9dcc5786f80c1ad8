-- A line of class Recipe begins with the prefix and stands in a rule, outside defines.
use Rattle.std.proofs.Common.{◌≡◌, refl, sym, ◌∙◌, ℕ, List, Bool, true, false, not, ◌||◌, cond, Option, Some, None, zero, suc}
use Rattle.std.specs.List.{list_any}
use Rattle.std.specs.Prelude.{nat_lt}
use Rattle.mk_lines.specs.Cells.{Cell, joined_byte, line_cells}
use Rattle.mk_lines.specs.Units.{units}
use Rattle.mk_class.specs.Texts.{word_texts}
use Rattle.mk_class.specs.Symbols.{is_hash}
use Rattle.mk_class.specs.CutTexts.{cut_text, head}
use Rattle.mk_class.specs.Assignments.{Assignment, assignment}
use Rattle.mk_class.specs.Separators.{Separated, separated, has_colon, takes_assignment}
use Rattle.mk_class.specs.Headers.{header, is_rough}
use Rattle.mk_class.specs.Keywords.{first_keyword}
use Rattle.mk_class.specs.Classes.{Said, class_said, Class, is_recipe}
use Rattle.mk_class.specs.Classes.Class.{Opaque, Blank, Comment, Rough, Header}
use Rattle.mk_class.specs.RecipePrefix.{is_prefix_led}
use Rattle.mk_class.specs.Contexts.{Context}
use Rattle.mk_class.specs.ClassTable.{class_of, class_at, define_class, header_class, target_class, rule_class, assign_class, or_class, is_all_blanks, is_unreadable, plain_class, directive}
use Rattle.mk_class.specs.declared.context.RuleFlag.{RuleFlag}
use Rattle.mk_class.specs.declared.context.RuleFlag.TheVariants.{Off, Rule, Unknown}

not_recipe-cond : (b : Bool) (x y : Class Cell) → is_recipe x ≡ false → is_recipe y ≡ false → is_recipe (cond b x y) ≡ false
not_recipe-cond true x y h k = h
not_recipe-cond false x y h k = k

not_recipe-assign : (c : Bool) (a : Option (Assignment Cell)) (k : Class Cell) → is_recipe k ≡ false → is_recipe (assign_class joined_byte c a k) ≡ false
not_recipe-assign c None k h = h
not_recipe-assign c (Some a) k h = refl

not_recipe-target : (s : Separated Cell) (a : Option (Assignment Cell)) (k : Class Cell) → is_recipe k ≡ false → is_recipe (target_class s a k) ≡ false
not_recipe-target s None k h = h
not_recipe-target s (Some a) k h = refl

not_recipe-rule : (us : List (List Cell)) → is_recipe (rule_class joined_byte us) ≡ false
not_recipe-rule us =
    let h : is_recipe (header_class joined_byte us) ≡ false = not_recipe-cond (is_rough joined_byte (head joined_byte us) (header joined_byte us)) Rough (Header (header joined_byte us)) refl refl in
    let s = separated joined_byte (cut_text joined_byte us) in
    not_recipe-cond (takes_assignment s.separator) (target_class s (assignment joined_byte s.rest) (header_class joined_byte us)) (header_class joined_byte us) (not_recipe-target s (assignment joined_byte s.rest) (header_class joined_byte us) h) h

not_recipe-said : (s : Said) → is_recipe (class_said {A = Cell} s) ≡ false
not_recipe-said Said.Endef = refl
not_recipe-said (Said.Body n) = refl
not_recipe-said (Said.DefineHead p) = refl
not_recipe-said Said.If = refl
not_recipe-said Said.Else = refl
not_recipe-said Said.Endif = refl
not_recipe-said Said.Directive = refl

not_recipe-or : (o : Option Said) (x : Class Cell) → is_recipe x ≡ false → is_recipe (or_class o x) ≡ false
not_recipe-or None x h = h
not_recipe-or (Some s) x h = not_recipe-said s

not_recipe-plain : (led c : Bool) (cs : List Cell) (us : List (List Cell)) → is_recipe (plain_class joined_byte led c (is_unreadable cs) us) ≡ false
not_recipe-plain led c cs us =
    not_recipe-cond (is_all_blanks joined_byte (cut_text joined_byte us)) _ _ (not_recipe-cond (list_any (is_hash joined_byte) us) Comment Blank refl refl) (
    not_recipe-cond (is_unreadable cs) Opaque _ refl (
    not_recipe-assign c (assignment joined_byte (cut_text joined_byte us)) _ (
    not_recipe-or (directive c (word_texts joined_byte (cut_text joined_byte us))) _ (
    not_recipe-cond (led || not (has_colon joined_byte (head joined_byte us))) Opaque (rule_class joined_byte us) refl (not_recipe-rule us)))))

-- what a line of class Recipe says of its context
pub record StandsInRule (led : Bool) (defines : ℕ) (f : RuleFlag) : Type 0 where
  pub is_led : led ≡ true
  pub no_define : defines ≡ 0
  pub in_rule : f ≡ Rule

at-recipe : (led : Bool) (n : ℕ) (f : RuleFlag) (c : Bool) (cs : List Cell) (us : List (List Cell)) → is_recipe (class_at joined_byte led n f c (is_unreadable cs) us) ≡ true → StandsInRule led n f
at-recipe true zero Rule c cs us h = record { is_led = refl; no_define = refl; in_rule = refl }
at-recipe true zero Unknown c cs us h = absurd (cc)
at-recipe true zero Off c cs us h = absurd (let e : true ≡ false = sym h ∙ not_recipe-plain true c cs us in cc)
at-recipe false zero f c cs us h = absurd (plain f h)
  where
    plain : (f : RuleFlag) → is_recipe (class_at joined_byte false zero f c (is_unreadable cs) us) ≡ true → ⊥
    plain Off h = let e : true ≡ false = sym h ∙ not_recipe-plain false c cs us in cc
    plain Rule h = let e : true ≡ false = sym h ∙ not_recipe-plain false c cs us in cc
    plain Unknown h = let e : true ≡ false = sym h ∙ not_recipe-plain false c cs us in cc
at-recipe true (suc n) f c cs us h = absurd (cc)
at-recipe false (suc n) f c cs us h = absurd (let e : true ≡ false = sym h ∙ not_recipe-said (define_class (first_keyword (word_texts joined_byte us)) (suc n)) in cc)

-- each line of class Recipe stands in such a context
pub recipe-stands : (c : Context) (l : List ℕ) → is_recipe (class_of c l) ≡ true → StandsInRule (is_prefix_led c.prefix l) c.defines c.flag
recipe-stands c l h = at-recipe (is_prefix_led c.prefix l) c.defines c.flag (nat_lt 0 c.conditionals) (line_cells l) (units joined_byte (line_cells l)) h
