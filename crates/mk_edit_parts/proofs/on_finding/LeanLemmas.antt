-- Lines of a document that lean on what stands before them.
use Rattle.std.proofs.Common.{◌≡◌, refl, ap, ◌∙◌, ℕ, zero, suc, ◌+◌, true, false, List, [], ◌∷◌, ◌||◌, ◌&&◌, drop, Some, suc-add}
use Rattle.std.specs.Prelude.{slice_get}
use Rattle.mk_lines.specs.Cells.{Cell, joined_byte}
use Rattle.mk_class.specs.Classes.{Class, is_conditional, is_recipe, leaves_flag}
use Rattle.mk_class.specs.Classes.Class.{Endef, Body, Recipe, Opaque, Blank, Comment, Assign, DefineHead, If, Else, Endif, Directive, TargetAssign, Rough, Header}
use Rattle.mk_class.specs.RecipePrefix.{is_prefix_led}
use Rattle.mk_class.specs.LocatedClasses.{located_class, leaves_flag_located}
use Rattle.mk_class.specs.ClassedLines.{ClassedLine, is_led_first}
use Rattle.mk_tree.specs.LocatedLines.{LocatedLine, is_conditional_located, located_lines}
use Rattle.mk_edit_parts.specs.LineRanges.{is_led_first_located}
use Rattle.mk_edit_parts.specs.RecipeWalks.{is_recipe_located}

-- what walks ask of a class, as a document shows it; and a recipe line is no conditional's
pub record Asked (k : Class Cell) : Type 0 where
  pub recipe_is : is_recipe_located (located_class joined_byte k) ≡ is_recipe k
  pub leaves_is : leaves_flag_located (located_class joined_byte k) ≡ leaves_flag k
  pub conditional_is : is_conditional_located (located_class joined_byte k) ≡ is_conditional k
  pub apart : is_recipe k ≡ true → is_conditional k ≡ false

pub asked : (k : Class Cell) → Asked k
asked Endef = record { recipe_is = refl; leaves_is = refl; conditional_is = refl; apart = λ h. refl }
asked (Body d) = record { recipe_is = refl; leaves_is = refl; conditional_is = refl; apart = λ h. refl }
asked Recipe = record { recipe_is = refl; leaves_is = refl; conditional_is = refl; apart = λ h. refl }
asked Opaque = record { recipe_is = refl; leaves_is = refl; conditional_is = refl; apart = λ h. refl }
asked Blank = record { recipe_is = refl; leaves_is = refl; conditional_is = refl; apart = λ h. refl }
asked Comment = record { recipe_is = refl; leaves_is = refl; conditional_is = refl; apart = λ h. refl }
asked (Assign a p) = record { recipe_is = refl; leaves_is = refl; conditional_is = refl; apart = λ h. refl }
asked (DefineHead q) = record { recipe_is = refl; leaves_is = refl; conditional_is = refl; apart = λ h. refl }
asked If = record { recipe_is = refl; leaves_is = refl; conditional_is = refl; apart = λ h. absurd (cc) }
asked Else = record { recipe_is = refl; leaves_is = refl; conditional_is = refl; apart = λ h. absurd (cc) }
asked Endif = record { recipe_is = refl; leaves_is = refl; conditional_is = refl; apart = λ h. absurd (cc) }
asked Directive = record { recipe_is = refl; leaves_is = refl; conditional_is = refl; apart = λ h. refl }
asked (TargetAssign t) = record { recipe_is = refl; leaves_is = refl; conditional_is = refl; apart = λ h. refl }
asked Rough = record { recipe_is = refl; leaves_is = refl; conditional_is = refl; apart = λ h. refl }
asked (Header x) = record { recipe_is = refl; leaves_is = refl; conditional_is = refl; apart = λ h. refl }

-- lines of the definitions lean as a document shows them
pub led_first-located : (p : ℕ) (ls : List ClassedLine) → is_led_first_located p (located_lines ls) ≡ is_led_first p ls
led_first-located p [] = refl
led_first-located p (l ∷ ls) = ap (λ b. is_prefix_led p l.bytes || (b && is_led_first_located p (located_lines ls))) (asked l.class).leaves_is ∙ ap (λ b. is_prefix_led p l.bytes || (leaves_flag l.class && b)) (led_first-located p ls)

-- the line at an index, and those from it on
pub drop_at : (ls : List LocatedLine) (at : ℕ) (l : LocatedLine) → Some l ≡ slice_get ls at → drop at ls ≡ l ∷ drop (at + 1) ls
drop_at [] at l h = absurd (cc)
drop_at (x ∷ ls) zero l h = cc
drop_at (x ∷ ls) (suc at) l h = rw (suc-add at 1) (drop_at ls at l h)

pub led_first-at : (p : ℕ) (ls : List LocatedLine) (at : ℕ) (l : LocatedLine) → Some l ≡ slice_get ls at
    → is_led_first_located p (drop at ls) ≡ (is_prefix_led p l.bytes || (leaves_flag_located l.class && is_led_first_located p (drop (at + 1) ls)))
led_first-at p ls at l h = ap (is_led_first_located p) (drop_at ls at l h)
