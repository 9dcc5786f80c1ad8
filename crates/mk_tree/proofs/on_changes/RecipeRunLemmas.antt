-- The lines of a rule: the header, the lines up to its last recipe line and the lines below these are all lines. The context in
-- the rule is the context after the header, except for the open conditionals.
use Rattle.std.proofs.Common.{◌≡◌, refl, sym, ap, ◌∙◌, subst, ℕ, List, [], ◌∷◌, ◌++◌, append_assoc, true, not, length, drop}
use Rattle.std.proofs.Math.Seq.{drop-append_seam}
use Rattle.mk_lines.specs.Lists.{after_leading, trailing, Each}
use Rattle.mk_lines.proofs.on_lists.ListLemmas.{Each-left, leading-each, leading-after_leading, trim_end-trailing}
use Rattle.mk_class.specs.Classes.{Class, is_recipe}
use Rattle.mk_class.specs.Classes.Class.{Endef, Body, Recipe, Opaque, Blank, Comment, Assign, DefineHead, If, Else, Endif, Directive, TargetAssign, Rough, Header}
use Rattle.mk_class.specs.Headers
use Rattle.mk_class.specs.Assignments.{Assignment}
use Rattle.mk_class.specs.Contexts.{Context, context_after}
use Rattle.mk_class.specs.ClassTable.{class_of}
use Rattle.mk_class.specs.CountsOfClasses.{FitsCounts}
use Rattle.mk_class.proofs.on_classes.ClassLemmas.{class_of-counts}
use Rattle.mk_class.specs.ClassedLines.{ClassedLine, context_after_lines}
use Rattle.mk_class.specs.declared.context.RuleFlag.TheVariants.{Rule}
use Rattle.mk_lines.specs.Cells.{Cell}
use Rattle.std.specs.Prelude.{None}
use Rattle.mk_tree.specs.RecipeLines.{stays_in_rule, rule_lines, recipe_run, after_recipe}
use Rattle.mk_tree.specs.Leaning.{AgreeButForFlag}
use Rattle.mk_tree.proofs.on_documents.ConditionalLemmas.{conditionals-kept_by_lines}
use Rattle.mk_tree.specs.Documents.{AreUnconditional}

-- ---- the lines

rest_of_rule : List ClassedLine → List ClassedLine
rest_of_rule ls = trailing (λ l. not (is_recipe l.class)) (rule_lines ls) ++ after_leading (λ l. stays_in_rule l.class) ls

run-rest : (ls : List ClassedLine) → recipe_run ls ++ rest_of_rule ls ≡ ls
unfolding rest_of_rule
run-rest ls =
    sym (append_assoc (recipe_run ls) (trailing (λ l. not (is_recipe l.class)) (rule_lines ls)) (after_leading (λ l. stays_in_rule l.class) ls))
    ∙ (ap (λ z. z ++ after_leading (λ l. stays_in_rule l.class) ls) (trim_end-trailing (λ l. not (is_recipe l.class)) (rule_lines ls))
    ∙ leading-after_leading (λ l. stays_in_rule l.class) ls)

-- the lines up to the last recipe line and those after it are the lines
pub recipe_run-after : (ls : List ClassedLine) → recipe_run ls ++ after_recipe ls ≡ ls
recipe_run-after ls =
    let e : after_recipe ls ≡ rest_of_rule ls = ap (drop (length (recipe_run ls))) (sym (run-rest ls)) ∙ drop-append_seam (recipe_run ls) (rest_of_rule ls) in
    ap (λ z. recipe_run ls ++ z) e ∙ run-rest ls

-- the lines up to the last recipe line stay in the rule
pub recipe_run-stays : (ls : List ClassedLine) → Each (λ l. stays_in_rule l.class) (recipe_run ls)
recipe_run-stays ls =
    Each-left (λ l. stays_in_rule l.class) (recipe_run ls) (trailing (λ l. not (is_recipe l.class)) (rule_lines ls))
    (subst (Each (λ l. stays_in_rule l.class)) (sym (trim_end-trailing (λ l. not (is_recipe l.class)) (rule_lines ls))) (leading-each (λ l. stays_in_rule l.class) ls))

-- ---- the context

-- What is known of the context in a rule, the header of which stands in a context.
pub record RuleContext (before within : Context) : Type 0 where
  pub flag : within.flag ≡ Rule
  pub no_define_before : before.defines ≡ 0
  pub no_define : within.defines ≡ 0
  pub prefix : within.prefix ≡ before.prefix

-- one line more that stays in the rule
line-in_rule : (b w : Context) (k : Class Cell) → stays_in_rule k ≡ true → RuleContext b w → RuleContext b (context_after w k)
line-in_rule b w Endef h r = cc
line-in_rule b w (Body n) h r = cc
line-in_rule b w Recipe h r = record { flag = refl; no_define_before = r.no_define_before; no_define = r.no_define; prefix = r.prefix }
line-in_rule b w Opaque h r = cc
line-in_rule b w Blank h r = record { flag = r.flag; no_define_before = r.no_define_before; no_define = r.no_define; prefix = r.prefix }
line-in_rule b w Comment h r = record { flag = r.flag; no_define_before = r.no_define_before; no_define = r.no_define; prefix = r.prefix }
line-in_rule b w (Assign a p) h r = cc
line-in_rule b w (DefineHead p) h r = cc
line-in_rule b w If h r = record { flag = r.flag; no_define_before = r.no_define_before; no_define = r.no_define; prefix = r.prefix }
line-in_rule b w Else h r = record { flag = r.flag; no_define_before = r.no_define_before; no_define = r.no_define; prefix = r.prefix }
line-in_rule b w Endif h r = record { flag = r.flag; no_define_before = r.no_define_before; no_define = r.no_define; prefix = r.prefix }
line-in_rule b w Directive h r = cc
line-in_rule b w (TargetAssign t) h r = cc
line-in_rule b w Rough h r = cc
line-in_rule b w (Header x) h r = cc

-- the context after lines that stay in the rule
lines-in_rule : (b w : Context) (ls : List ClassedLine) → Each (λ l. stays_in_rule l.class) ls → RuleContext b w → RuleContext b (context_after_lines w ls)
lines-in_rule b w [] h r = r
lines-in_rule b w (l ∷ ls) h r = lines-in_rule b (context_after w l.class) ls h.1 (line-in_rule b w l.class h.0 r)

-- the context after a header
header-context : (c : Context) (l : List ℕ) (x : Headers.Header Cell) → class_of c l ≡ Header x → RuleContext c (context_after c (Header x))
header-context c l x h =
    let n : c.defines ≡ 0 = subst (FitsCounts c.defines c.conditionals) h (class_of-counts c l) in
    record { flag = refl; no_define_before = n; no_define = n; prefix = refl }

-- The context after a header and some lines that stay in its rule, such as those up to its last recipe line.
pub rule-context : (c : Context) (h : ClassedLine) (x : Headers.Header Cell) (ls : List ClassedLine) → class_of c h.bytes ≡ h.class → h.class ≡ Header x → Each (λ l. stays_in_rule l.class) ls
    → RuleContext c (context_after_lines c (h ∷ ls))
rule-context c h x ls k e s =
    lines-in_rule c (context_after c h.class) ls s (subst (λ (z : Class Cell). RuleContext c (context_after c z)) (sym e) (header-context c h.bytes x (k ∙ e)))

-- if none of these lines belongs to a conditional, the context after them agrees with that before them in all except the flag
pub rule-agrees : (c : Context) (h : ClassedLine) (x : Headers.Header Cell) (ls : List ClassedLine) → class_of c h.bytes ≡ h.class → h.class ≡ Header x → Each (λ l. stays_in_rule l.class) ls
    → AreUnconditional ls → AgreeButForFlag c (context_after_lines c (h ∷ ls))
rule-agrees c h x ls k e s u =
    let r : RuleContext c (context_after_lines c (h ∷ ls)) = rule-context c h x ls k e s in
    let n : (context_after_lines c (h ∷ ls)).conditionals ≡ c.conditionals =
    conditionals-kept_by_lines (context_after c h.class) ls u ∙ ap (λ (z : Class Cell). (context_after c z).conditionals) e in
    record { defines = r.no_define_before ∙ sym r.no_define; conditionals = sym n; prefix = sym r.prefix }

-- ---- single lines

-- the context after an assignment that sets no prefix, a header or a recipe line agrees with that before it in all except the
-- flag
pub assign-agrees : (c : Context) (a : Assignment Cell) → AgreeButForFlag c (context_after c (Assign a None))
assign-agrees c a = record { defines = refl; conditionals = refl; prefix = refl }

pub recipe-agrees : (c : Context) → AgreeButForFlag c (context_after c Recipe)
recipe-agrees c = record { defines = refl; conditionals = refl; prefix = refl }
