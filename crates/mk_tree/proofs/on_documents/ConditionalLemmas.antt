-- How many conditionals are open at once: lines of no conditional do not change that number, so a change of such lines does not
-- make a text that opens too many.
use Rattle.std.proofs.Common.{◌≡◌, refl, sym, ap, ◌∙◌, arith, ℕ, List, [], ◌∷◌, ◌++◌, not, true, max}
use Rattle.mk_lines.specs.Cells.{Cell}
use Rattle.mk_class.specs.Classes.{Class, is_conditional}
use Rattle.mk_class.specs.Classes.Class.{Endef, Body, Recipe, Opaque, Blank, Comment, Assign, DefineHead, If, Else, Endif, Directive, TargetAssign, Rough, Header}
use Rattle.mk_class.specs.Contexts.{Context, context_after, conditionals_after}
use Rattle.mk_class.specs.ClassedLines.{ClassedLine, context_after_lines}
use Rattle.mk_tree.specs.Documents.{AreUnconditional, most_conditionals}
use Rattle.mk_tree.specs.EachReplaced.{ReplaceEach}

-- a line of no conditional leaves the number of open conditionals
conditionals-kept : (n : ℕ) (k : Class Cell) → not (is_conditional k) ≡ true → conditionals_after n k ≡ n
conditionals-kept n Endef h = refl
conditionals-kept n (Body d) h = refl
conditionals-kept n Recipe h = refl
conditionals-kept n Opaque h = refl
conditionals-kept n Blank h = refl
conditionals-kept n Comment h = refl
conditionals-kept n (Assign a p) h = refl
conditionals-kept n (DefineHead p) h = refl
conditionals-kept n If h = cc
conditionals-kept n Else h = refl
conditionals-kept n Endif h = cc
conditionals-kept n Directive h = refl
conditionals-kept n (TargetAssign t) h = refl
conditionals-kept n Rough h = refl
conditionals-kept n (Header x) h = refl

-- lines of no conditional leave the number of open conditionals
pub conditionals-kept_by_lines : (c : Context) (ls : List ClassedLine) → AreUnconditional ls → (context_after_lines c ls).conditionals ≡ c.conditionals
conditionals-kept_by_lines c [] h = refl
conditionals-kept_by_lines c (l ∷ ls) h = conditionals-kept_by_lines (context_after c l.class) ls h.1 ∙ conditionals-kept c.conditionals l.class h.0

-- at least as many are open at once as were open before the first line
most_conditionals-least : (n : ℕ) (ls : List ClassedLine) → max n (most_conditionals n ls) ≡ most_conditionals n ls
most_conditionals-least n [] = omega arith
most_conditionals-least n (l ∷ ls) = omega arith

-- the most of two runs of lines
most_conditionals-append : (c : Context) (a b : List ClassedLine)
    → most_conditionals c.conditionals (a ++ b) ≡ max (most_conditionals c.conditionals a) (most_conditionals (context_after_lines c a).conditionals b)
most_conditionals-append c [] b = sym (most_conditionals-least c.conditionals b)
most_conditionals-append c (l ∷ a) b =
    let ih = most_conditionals-append (context_after c l.class) a b in
    ap (max c.conditionals) ih
    ∙ assoc c.conditionals (most_conditionals (conditionals_after c.conditionals l.class) a) (most_conditionals (context_after_lines (context_after c l.class) a).conditionals b)
  where
    assoc : (x y z : ℕ) → max x (max y z) ≡ max (max x y) z
    assoc x y z = omega arith

-- lines of no conditional open none
most_conditionals-unconditional : (n : ℕ) (ls : List ClassedLine) → AreUnconditional ls → most_conditionals n ls ≡ n
most_conditionals-unconditional n [] h = refl
most_conditionals-unconditional n (l ∷ ls) h =
    let e : max n n ≡ n = omega arith in
    ap (λ z. max n (most_conditionals z ls)) (conditionals-kept n l.class h.0) ∙ (ap (max n) (most_conditionals-unconditional n ls h.1) ∙ e)

-- The most that are open is the same with and without lines of no conditional.
most_conditionals-without : (c : Context) (above run below : List ClassedLine) → AreUnconditional run
    → most_conditionals c.conditionals (above ++ (run ++ below)) ≡ most_conditionals c.conditionals (above ++ below)
most_conditionals-without c above run below h =
    let d = context_after_lines c above in
    let m = most_conditionals d.conditionals below in
    let inner : most_conditionals d.conditionals (run ++ below) ≡ m =
    most_conditionals-append d run below
    ∙ (ap (λ z. max z (most_conditionals (context_after_lines d run).conditionals below)) (most_conditionals-unconditional d.conditionals run h)
    ∙ (ap (λ z. max d.conditionals (most_conditionals z below)) (conditionals-kept_by_lines d run h) ∙ most_conditionals-least d.conditionals below)) in
    most_conditionals-append c above (run ++ below) ∙ (ap (max (most_conditionals c.conditionals above)) inner ∙ sym (most_conditionals-append c above below))

-- It is the same with lines of no conditional in the place of others.
pub most_conditionals-run_replaced : (c : Context) (above run new below : List ClassedLine) → AreUnconditional run → AreUnconditional new
    → most_conditionals c.conditionals (above ++ (new ++ below)) ≡ most_conditionals c.conditionals (above ++ (run ++ below))
most_conditionals-run_replaced c above run new below h k = most_conditionals-without c above new below k ∙ sym (most_conditionals-without c above run below h)

-- It is the same with lines in the place of others, if the context after each is the same.
pub most_conditionals-each_replaced : (c : Context) (old new below : List ClassedLine) → ReplaceEach c old new below → most_conditionals c.conditionals new ≡ most_conditionals c.conditionals old
most_conditionals-each_replaced c [] [] below h = refl
most_conditionals-each_replaced c [] (m ∷ ms) below h = absurd h
most_conditionals-each_replaced c (l ∷ ls) [] below h = absurd h
most_conditionals-each_replaced c (l ∷ ls) (m ∷ ms) below h =
    ap (λ (z : Context). max c.conditionals (most_conditionals z.conditionals ms)) h.0.context
    ∙ ap (max c.conditionals) (most_conditionals-each_replaced (context_after c l.class) ls ms below h.1)
