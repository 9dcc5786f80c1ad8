-- A line that an edit of several lines means, in a document: the line of an assignment that sets no recipe prefix, or a recipe line.
use Rattle.std.proofs.Common.{◌≡◌, refl, sym, ap, ◌∙◌, arith, ℕ, ◌≤◌, List, [], ◌∷◌, length, Bool, true, false, not, ◌&&◌, ◌||◌, None}
use Rattle.std.specs.Prelude.{nat_lt}
use Rattle.std.specs.List.{list_any}
use Rattle.std.proofs.lemmas.Bool.{and_parts, not-true}
use Rattle.mk_lines.specs.Cells.{Cell, joined_byte}
use Rattle.mk_class.specs.Arguments.{is_clean, is_name, is_target}
use Rattle.mk_class.specs.Assignments.{Assignment}
use Rattle.mk_class.specs.Classes.{Class, is_recipe}
use Rattle.mk_class.specs.Classes.Class.{Endef, Body, Recipe, Opaque, Blank, Comment, Assign, DefineHead, If, Else, Endif, Directive, TargetAssign, Rough, Header}
use Rattle.mk_class.specs.ClassedLines.{ClassedLine}
use Rattle.mk_class.specs.ClassTable.{class_of}
use Rattle.mk_class.specs.Contexts.{Context}
use Rattle.mk_class.specs.ListTests.{is_empty}
use Rattle.mk_class.specs.LocatedClasses.{located_class}
use Rattle.mk_class.specs.RecipePrefix.{is_prefix_name}
use Rattle.mk_class.specs.Texts.{unit_text}
use Rattle.mk_tree.specs.LocatedLines.{located_line}
use Rattle.mk_edit_language.specs.ArgumentCauses.{Tested, bad_argument, line_change_tests, reserved}
use Rattle.mk_edit_language.specs.EachLine.{assigns_other, each_change}
use Rattle.mk_edit_language.specs.Edits.{LineChange, Prepend, ReplaceWord, InsertWord, Substitute, SetOperator, EachEdit, ChangeEach, SubstValues, SubstRecipe, SubstRecipes, EachLine}
use Rattle.mk_edit_language.specs.declared.refusal.Field.TheVariants as field
use Rattle.mk_edit_language.specs.declared.refusal.Refusal.TheVariants.{Reserved}
use Rattle.mk_edit_language.proofs.on_edits.Accepted.{first-passed, where_holds-none}
use Rattle.mk_edit_language.proofs.on_lines.SpotLemmas.{recipe-class}
use Rattle.mk_edit_language.proofs.on_values.FoundAssignments.{assigned-in_context, no_prefix-set, prefix-of_class}
use Rattle.mk_edit_parts.specs.EachLineWalks.{is_meant_located}
use Rattle.mk_edit_parts.specs.declared.each_line.Reach.{Reach}
use Rattle.mk_edit_parts.proofs.on_finding.LeanLemmas.{asked}
use Rattle.mk_edit_parts.proofs.on_finding.PartLemmas.{assigns-located, assigns_other-located}
use Rattle.mk_edit.specs.EachLineSurveys.{IsOfLines, IsOfSeveral, IsOwnLine}
use Rattle.mk_edit.specs.LineChangePlans.{IsAssigning}

-- ---- the fields of the edit

-- a text that is looked for is not empty
text-some : (f : List ℕ) → (is_clean f && not (is_empty f)) ≡ true → 1 ≤ length f
text-some [] k = absurd (go (is_clean []) k)
  where
    go : (b : Bool) → (b && false) ≡ true → ⊥
    go true k = cc
    go false k = cc
text-some (b ∷ f) k = omega arith

sought-some : (f t : List ℕ) → bad_argument (EachLine (SubstRecipes f t)) ≡ None → 1 ≤ length f
sought-some f t h = text-some f (first-passed field.From (is_clean f && not (is_empty f)) (Tested field.To (is_clean t) ∷ []) h).0

-- an edit whose fields pass their tests, and whose name is not reserved
pub of-lines : (e : EachEdit) → bad_argument (EachLine e) ≡ None → reserved (EachLine e) ≡ None → IsOfLines e
of-lines (SubstValues f t) h r = sought-some f t h
of-lines (SubstRecipes f t) h r = sought-some f t h
of-lines (SubstRecipe nth g f t) h r = sought-some f t (first-passed field.Target (is_target g) (line_change_tests (Substitute f t)) h).1
of-lines (ChangeEach n c) h r = (free (where_holds-none _ Reserved r), several c h)
  where
    free : (list_any is_prefix_name (n ∷ []) || false) ≡ false → is_prefix_name n ≡ false
    free k = go (is_prefix_name n) k
      where
        go : (b : Bool) → ((b || false) || false) ≡ false → b ≡ false
        go true k = k
        go false k = refl

    several : (c : LineChange) → bad_argument (EachLine (ChangeEach n c)) ≡ None → IsOfSeveral c
    several (Prepend v) k = tt
    several (ReplaceWord w v) k = tt
    several (SetOperator o) k = tt
    several (Substitute f t) k = sought-some f t (first-passed field.Name (is_name n) (line_change_tests (Substitute f t)) k).1
    several (InsertWord s w v) k = let z : false ≡ true = (first-passed field.Word false [] (first-passed field.Name (is_name n) (Tested field.Word false ∷ []) k).1).0 in cc

-- ---- a line that is meant

assigning : (x : Context) (k : ClassedLine) (a : Assignment Cell) → class_of x k.bytes ≡ k.class → k.class ≡ Assign a None → is_prefix_name (unit_text joined_byte a.name) ≡ false → IsAssigning x (located_line k)
assigning x k a h e f = record { assigned = a; is = record { here = h ∙ e; class_is = ap (located_class joined_byte) e }; free = f }

-- one that assigns a variable other than the prefix
other-assigning : (x : Context) (k : ClassedLine) → class_of x k.bytes ≡ k.class → assigns_other k.class ≡ true → IsAssigning x (located_line k)
other-assigning x k h t = go k.class refl t
  where
    go : (c : Class Cell) → k.class ≡ c → assigns_other c ≡ true → IsAssigning x (located_line k)
    go (Assign a p) e t =
        let free : is_prefix_name (unit_text joined_byte a.name) ≡ false = not-true (is_prefix_name (unit_text joined_byte a.name)) t in
        let none : p ≡ None = prefix-of_class x k.bytes a p (h ∙ e) ∙ no_prefix-set (nat_lt 0 x.conditionals) a free in
        assigning x k a h (e ∙ ap (Assign a) none) free
    go Endef e t = absurd (cc)
    go (Body d) e t = absurd (cc)
    go Recipe e t = absurd (cc)
    go Opaque e t = absurd (cc)
    go Blank e t = absurd (cc)
    go Comment e t = absurd (cc)
    go (DefineHead p) e t = absurd (cc)
    go If e t = absurd (cc)
    go Else e t = absurd (cc)
    go Endif e t = absurd (cc)
    go Directive e t = absurd (cc)
    go (TargetAssign g) e t = absurd (cc)
    go Rough e t = absurd (cc)
    go (Header g) e t = absurd (cc)

-- one that is a recipe line
recipe-own : (x : Context) (k : ClassedLine) → class_of x k.bytes ≡ k.class → is_recipe k.class ≡ true → class_of x k.bytes ≡ Recipe
recipe-own x k h t = h ∙ recipe-class k.class t

pub meant-own : (e : EachEdit) (r : Reach) (x : Context) (k : ClassedLine) → class_of x k.bytes ≡ k.class → IsOfLines e → is_meant_located e r (located_line k) ≡ true → IsOwnLine (each_change e) x (located_line k)
meant-own (ChangeEach n c) r x k h o t =
    let A = assigned-in_context x n k h (sym (assigns-located n x k h) ∙ t) o.0 in
    (o.1, assigning x k A.assigned h A.class_is A.no_prefix)
meant-own (SubstValues f u) r x k h o t = (o, other-assigning x k h (sym (assigns_other-located x k h) ∙ t))
meant-own (SubstRecipe nth g f u) r x k h o t =
    (o, recipe-own x k h (sym (asked k.class).recipe_is ∙ (and_parts r.is_in_rule _ t).1))
meant-own (SubstRecipes f u) r x k h o t = (o, recipe-own x k h (sym (asked k.class).recipe_is ∙ t))
