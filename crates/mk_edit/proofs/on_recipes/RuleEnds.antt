-- Below the recipe of a rule no lines lean: the first that counts does not begin with the recipe prefix, since it would be one more recipe line.
use Rattle.std.proofs.Common.{◌≡◌, refl, sym, ap, ◌∙◌, ℕ, Bool, true, false, ◌&&◌, ◌||◌, not, List, [], ◌∷◌, ◌++◌, Option, None, option_map}
use Rattle.std.proofs.Math.Bool.{and-false}
use Rattle.mk_lines.specs.Cells.{Cell}
use Rattle.mk_class.specs.Classes.{Class, is_recipe, leaves_flag}
use Rattle.mk_class.specs.Classes.Class.{Endef, Body, Recipe, Opaque, Blank, Comment, Assign, DefineHead, If, Else, Endif, Directive, TargetAssign, Rough, Header}
use Rattle.mk_class.specs.RecipePrefix.{is_prefix_led}
use Rattle.mk_class.specs.Contexts.{Context, context_after}
use Rattle.mk_class.specs.ClassTable.{class_of}
use Rattle.mk_class.specs.ClassedLines.{ClassedLine, classed_lines, context_after_lines, is_led_first}
use Rattle.mk_class.specs.declared.context.RuleFlag.TheVariants.{Rule}
use Rattle.mk_tree.specs.Documents.{context_of}
use Rattle.mk_tree.specs.Leaning.{is_same_flag}
use Rattle.mk_tree.specs.LineTexts.{StandingLine}
use Rattle.mk_tree.specs.LocatedLines.{LocatedLine, located_text}
use Rattle.mk_tree.specs.RecipeLines.{ends_rule, recipe_run, after_recipe}
use Rattle.mk_tree.proofs.on_changes.RecipeRunLemmas.{recipe_run-after, recipe_run-stays, rule-context}
use Rattle.mk_tree.proofs.on_documents.LinesInText.{AreClassed, AreClassed-class, AreClassed-tail, line-in_text, run-in_text}
use Rattle.mk_edit_language.specs.Edits.{OfRule, RemoveLines}
use Rattle.mk_edit_language.specs.Causes.{where_holds}
use Rattle.mk_edit_language.specs.LineCauses.{leaning, removal_leans}
use Rattle.mk_edit_language.specs.RuleTaken.{recipe_goes_on}
use Rattle.mk_edit_language.specs.Stretches.{whole_rule}
use Rattle.mk_edit_language.specs.declared.refusal.Refusal.TheVariants.{Leans}
use Rattle.mk_edit_language.proofs.on_removals.RuleTakenLemmas.{after_recipe-ends}
use Rattle.mk_edit_parts.specs.declared.seek.Found.{Found}
use Rattle.mk_edit_parts.proofs.on_recipes.RulePlaces.{IsRuleAt}

-- a line that begins with the prefix where a rule is open is a recipe line
led-recipe : (c : Context) (line : List ℕ) → c.flag ≡ Rule → c.defines ≡ 0 → is_prefix_led c.prefix line ≡ true → class_of c line ≡ Recipe
led-recipe c line f d h = rw (h, d, f) refl

-- What is to be shown of some lines in any context: in an open rule that has no more recipe lines, the first line that counts does not begin with the prefix.
abbrev NotLed : List ClassedLine → Type 0
NotLed ls = (c : Context) → AreClassed c ls → c.flag ≡ Rule → c.defines ≡ 0 → recipe_goes_on ls ≡ false → is_led_first c.prefix ls ≡ false

-- a line that does not begin with the prefix
unled : (c : Context) (k : Class Cell) (ls : List ClassedLine) → NotLed ls → AreClassed (context_after c k) ls → c.flag ≡ Rule → c.defines ≡ 0
    → (is_recipe k || (not (ends_rule k) && recipe_goes_on ls)) ≡ false → (leaves_flag k && is_led_first c.prefix ls) ≡ false
unled c Blank ls n a f d i = n (context_after c Blank) a f d i
unled c Comment ls n a f d i = n (context_after c Comment) a f d i
unled c If ls n a f d i = n (context_after c If) a f d i
unled c Else ls n a f d i = n (context_after c Else) a f d i
unled c Endif ls n a f d i = n (context_after c Endif) a f d i
unled c Endef ls n a f d i = refl
unled c (Body k) ls n a f d i = refl
unled c Recipe ls n a f d i = refl
unled c Opaque ls n a f d i = refl
unled c (Assign x p) ls n a f d i = refl
unled c (DefineHead p) ls n a f d i = refl
unled c Directive ls n a f d i = refl
unled c (TargetAssign t) ls n a f d i = refl
unled c Rough ls n a f d i = refl
unled c (Header x) ls n a f d i = refl

-- a line, by whether it begins with the prefix
not_led-line : (c : Context) (l : ClassedLine) (ls : List ClassedLine) → NotLed ls → AreClassed c (l ∷ ls) → c.flag ≡ Rule → c.defines ≡ 0 → recipe_goes_on (l ∷ ls) ≡ false
    → (b : Bool) → is_prefix_led c.prefix l.bytes ≡ b → (b || (leaves_flag l.class && is_led_first c.prefix ls)) ≡ false
not_led-line c l ls n h f d g true e =
    let k : l.class ≡ Recipe = sym (AreClassed-class c l ls h) ∙ led-recipe c l.bytes f d e in
    let r : recipe_goes_on (l ∷ ls) ≡ true = ap (λ (z : Class Cell). is_recipe z || (not (ends_rule z) && recipe_goes_on ls)) k in
    absurd (cc)
not_led-line c l ls n h f d g false e = unled c l.class ls n (AreClassed-tail c l ls h) f d g

not_led : (ls : List ClassedLine) → NotLed ls
not_led [] c h f d g = refl
not_led (l ∷ ls) c h f d g = not_led-line c l ls (not_led ls) h f d g (is_prefix_led c.prefix l.bytes) refl

-- so the removal of a rule is refused for no lines that lean
pub removal-never_leans : (ls : List LocatedLine) (nth : Option ℕ) (g : List ℕ) (f : Found) → IsRuleAt ls nth g f → leaning (classed_lines (located_text ls)) (RemoveLines (OfRule nth g)) ≡ None
removal-never_leans ls nth g f R =
    let s = R.spot in
    let t = located_text ls in
    let C = context_of s.above in
    let run = recipe_run s.below in
    let rest = after_recipe s.below in
    let W = context_after_lines C (s.line ∷ run) in
    let E = context_of (s.above ++ s.line ∷ run) in
    let lines : classed_lines t ≡ s.above ++ ((s.line ∷ run) ++ rest) = R.line.lines ∙ ap (λ z. s.above ++ s.line ∷ z) (sym (recipe_run-after s.below)) in
    let within = rule-context C s.line R.header run (line-in_text t s.above s.line s.below R.line.lines).class R.class_is (recipe_run-stays s.below) in
    let none : is_led_first W.prefix rest ≡ false = not_led rest W (run-in_text t s.above (s.line ∷ run) rest lines).below_classed within.flag within.no_define (after_recipe-ends s.below) in
    let led : is_led_first C.prefix rest ≡ false = ap (λ p. is_led_first p rest) (sym within.prefix) ∙ none in
    ap (λ (o : Option StandingLine). where_holds (removal_leans (option_map whole_rule o)) Leans) R.found_is
    ∙ ap (λ z. where_holds z Leans) (ap (λ z. not (is_same_flag C.flag E.flag) && z) led ∙ and-false (not (is_same_flag C.flag E.flag)))
