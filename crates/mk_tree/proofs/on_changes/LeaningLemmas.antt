-- The leaning law: lines keep their classes if what is above them changes, provided that the open defines, the open conditionals
-- and the prefix before them are as they were, and that the lines do not lean on the flag.
use Rattle.std.proofs.Common.{◌≡◌, refl, sym, ap, ◌∙◌, ℕ, List, [], ◌∷◌, ◌++◌, Bool, true, false, not, ◌&&◌, ◌||◌}
use Rattle.std.specs.List.{list_any}
use Rattle.mk_lines.specs.LogicalLines.{logical_lines}
use Rattle.mk_lines.specs.Cells.{Cell}
use Rattle.mk_class.specs.Classes.{Class, leaves_flag}
use Rattle.mk_class.specs.Contexts.{Context, start, context_after, flag_after, defines_after, conditionals_after, prefix_after}
use Rattle.mk_class.specs.ClassedLines.{ClassedLine, classed, classed_lines, context_after_lines, is_led_first}
use Rattle.mk_class.proofs.on_contexts.FlagLemmas.{classed-flag, classed-append, flag_after-set}
use Rattle.mk_class.specs.declared.context.RuleFlag.{RuleFlag}
use Rattle.mk_class.specs.declared.context.RuleFlag.TheVariants.{Off, Rule, Unknown}
use Rattle.mk_tree.specs.LineTexts.{context_of}
use Rattle.mk_tree.specs.Leaning.{is_same_flag, leans, AgreeButForFlag}

-- ---- flags

-- flags that are the same
same_flag-is : (f g : RuleFlag) → is_same_flag f g ≡ true → f ≡ g
same_flag-is Off Off h = refl
same_flag-is Off Rule h = cc
same_flag-is Off Unknown h = cc
same_flag-is Rule Off h = cc
same_flag-is Rule Rule h = refl
same_flag-is Rule Unknown h = cc
same_flag-is Unknown Off h = cc
same_flag-is Unknown Rule h = cc
same_flag-is Unknown Unknown h = refl

same_flag-self : (f : RuleFlag) → is_same_flag f f ≡ true
same_flag-self Off = refl
same_flag-self Rule = refl
same_flag-self Unknown = refl

same_flag-back : (f g : RuleFlag) → is_same_flag f g ≡ is_same_flag g f
same_flag-back Off Off = refl
same_flag-back Off Rule = refl
same_flag-back Off Unknown = refl
same_flag-back Rule Off = refl
same_flag-back Rule Rule = refl
same_flag-back Rule Unknown = refl
same_flag-back Unknown Off = refl
same_flag-back Unknown Rule = refl
same_flag-back Unknown Unknown = refl

-- which flag is before and which after makes no difference
pub leans-back : (p : ℕ) (f g : RuleFlag) (ls : List ClassedLine) → leans p f g ls ≡ false → leans p g f ls ≡ false
leans-back p f g ls h = ap (λ z. not z && is_led_first p ls) (same_flag-back g f) ∙ h

-- no lines lean on one flag
pub leans-same : (p : ℕ) (f : RuleFlag) (ls : List ClassedLine) → leans p f f ls ≡ false
leans-same p f ls = ap (λ z. not z && is_led_first p ls) (same_flag-self f)

-- ---- contexts that agree

-- a context agrees with a context that is the same
pub agrees-same : (c d : Context) → c ≡ d → AgreeButForFlag c d
agrees-same c d h = record { defines = ap (λ z. z.defines) h; conditionals = ap (λ z. z.conditionals) h; prefix = ap (λ z. z.prefix) h }

-- contexts that agree do so the other way round
pub agrees-back : (c d : Context) → AgreeButForFlag c d → AgreeButForFlag d c
agrees-back c d h = record { defines = sym h.defines; conditionals = sym h.conditionals; prefix = sym h.prefix }

context_with : RuleFlag → ℕ → ℕ → ℕ → Context
context_with f n k p = record { flag = f; defines = n; conditionals = k; prefix = p }

-- contexts that agree and have the same flag are the same
agrees-is : (c d : Context) → AgreeButForFlag c d → c.flag ≡ d.flag → c ≡ d
unfolding context_with
agrees-is c d h e = parts c.flag d.flag c.defines d.defines c.conditionals d.conditionals c.prefix d.prefix e h.defines h.conditionals h.prefix
  where
    parts : (f g : RuleFlag) (n m k j p q : ℕ) → f ≡ g → n ≡ m → k ≡ j → p ≡ q → context_with f n k p ≡ context_with g m j q
    parts f g n m k j p q a b c d = rw (a, b, c, d) refl

-- contexts that agree do so after a line of one class
agrees-after : (c d : Context) (k : Class Cell) → AgreeButForFlag c d → AgreeButForFlag (context_after c k) (context_after d k)
agrees-after c d k h = record {
  defines = ap (λ z. defines_after z k) h.defines;
  conditionals = ap (λ z. conditionals_after z k) h.conditionals;
  prefix = ap (λ z. prefix_after z k) h.prefix;
}

-- contexts that agree do so after some lines
pub agrees-after_lines : (c d : Context) (ls : List ClassedLine) → AgreeButForFlag c d → AgreeButForFlag (context_after_lines c ls) (context_after_lines d ls)
agrees-after_lines c d [] h = h
agrees-after_lines c d (l ∷ ls) h = agrees-after_lines (context_after c l.class) (context_after d l.class) ls (agrees-after c d l.class h)

-- the flag after some lines is the same where it was before them
flag-same_after_lines : (c d : Context) (ls : List ClassedLine) → c.flag ≡ d.flag → (context_after_lines c ls).flag ≡ (context_after_lines d ls).flag
flag-same_after_lines c d [] h = h
flag-same_after_lines c d (l ∷ ls) h = flag-same_after_lines (context_after c l.class) (context_after d l.class) ls (ap (λ z. flag_after z l.class) h)

-- the flag after lines of which one sets it is the same whatever it was before them
flag-set_by_lines : (c d : Context) (ls : List ClassedLine) → list_any (λ l. not (leaves_flag l.class)) ls ≡ true → (context_after_lines c ls).flag ≡ (context_after_lines d ls).flag
flag-set_by_lines c d [] h = cc
flag-set_by_lines c d (l ∷ ls) h = go (leaves_flag l.class) refl h (λ k. flag-set_by_lines (context_after c l.class) (context_after d l.class) ls k)
    (λ e. flag-same_after_lines (context_after c l.class) (context_after d l.class) ls e)
  where
    go : (b : Bool) → leaves_flag l.class ≡ b → (not b || list_any (λ l. not (leaves_flag l.class)) ls) ≡ true
        → (list_any (λ l. not (leaves_flag l.class)) ls ≡ true → (context_after_lines (context_after c l.class) ls).flag ≡ (context_after_lines (context_after d l.class) ls).flag)
        → (flag_after c.flag l.class ≡ flag_after d.flag l.class → (context_after_lines (context_after c l.class) ls).flag ≡ (context_after_lines (context_after d l.class) ls).flag)
        → (context_after_lines (context_after c l.class) ls).flag ≡ (context_after_lines (context_after d l.class) ls).flag
    go true e h ih same = ih h
    go false e h ih same = same (flag_after-set c.flag d.flag l.class e)

-- contexts that agree are the same after lines of which one sets the flag
pub same-after_lines : (c d : Context) (ls : List ClassedLine) → AgreeButForFlag c d → list_any (λ l. not (leaves_flag l.class)) ls ≡ true → context_after_lines c ls ≡ context_after_lines d ls
same-after_lines c d ls h k = agrees-is (context_after_lines c ls) (context_after_lines d ls) (agrees-after_lines c d ls h) (flag-set_by_lines c d ls k)

-- ---- the law

-- lines have the same classes in contexts that agree, if they do not lean on the two flags
pub classed-unless_leans : (c d : Context) (ls : List (List ℕ)) → AgreeButForFlag c d → leans c.prefix c.flag d.flag (classed c ls) ≡ false → classed d ls ≡ classed c ls
classed-unless_leans c d ls h n = go (is_same_flag c.flag d.flag) refl n
  where
    go : (b : Bool) → is_same_flag c.flag d.flag ≡ b → (not b && is_led_first c.prefix (classed c ls)) ≡ false → classed d ls ≡ classed c ls
    go true e k = ap (λ z. classed z ls) (sym (agrees-is c d h (same_flag-is c.flag d.flag e)))
    go false e k =
        ap (λ z. classed z ls) (agrees-is d (record c { flag = d.flag }) (record { defines = sym h.defines; conditionals = sym h.conditionals; prefix = sym h.prefix }) refl)
        ∙ classed-flag c.flag d.flag c.defines c.conditionals c.prefix ls k

-- the lines of a text, taken apart, with their classes
pub classed_lines-apart : (t : List ℕ) (above below : List (List ℕ)) → logical_lines t ≡ above ++ below
    → classed_lines t ≡ classed start above ++ classed (context_of (classed start above)) below
classed_lines-apart t above below h = ap (classed start) h ∙ classed-append start above below

-- The lines below keep their classes if the lines above become others, provided that the contexts there agree and the lines below
-- do not lean on the flags.
pub lines_below-keep : (t : List ℕ) (above' below : List (List ℕ)) (c : Context) → logical_lines t ≡ above' ++ below
    → AgreeButForFlag c (context_of (classed start above')) → leans c.prefix c.flag (context_of (classed start above')).flag (classed c below) ≡ false
    → classed_lines t ≡ classed start above' ++ classed c below
lines_below-keep t above' below c h a n =
    classed_lines-apart t above' below h ∙ ap (λ z. classed start above' ++ z) (classed-unless_leans c (context_of (classed start above')) below a n)
