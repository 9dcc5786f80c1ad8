-- The lines of a text are admitted where they stand.
use Rattle.std.proofs.Common.{◌≡◌, ℕ, zero, suc, ◌+◌, ◌<◌, ◌≤◌, refl, sym, ap, ◌∙◌, subst, arith, List, [], ◌∷◌, length, take, drop, suc-add}
use Rattle.mk_lines.specs.Limits.{max_text}
use Rattle.mk_lines.specs.LogicalLines.{logical_lines}
use Rattle.mk_lines.specs.Cells.{Cell, joined_byte}
use Rattle.mk_class.specs.Classes.{Class}
use Rattle.mk_class.specs.Classes.Class.{Endef, Body, Recipe, Opaque, Blank, Comment, Assign, DefineHead, If, Else, Endif, Directive, TargetAssign, Rough, Header}
use Rattle.mk_class.specs.Contexts.{Context, FitsConditionals, FitsDefines, conditionals_after_located, context_after, context_after_located, defines_after, max_conditionals, start}
use Rattle.mk_class.specs.LocatedClasses.{located_class}
use Rattle.mk_class.specs.ClassTable.{class_of}
use Rattle.mk_class.specs.CountsOfClasses.{FitsCounts}
use Rattle.mk_class.proofs.on_classes.ClassLemmas.{class_of-counts}
use Rattle.mk_class.specs.ClassedLines.{ClassedLine, classed, classed_lines, context_after_lines}
use Rattle.mk_class.specs.declared.class.Class as class
use Rattle.mk_class.specs.declared.class.Class.TheVariants as variants
use Rattle.mk_class.specs.declared.context.Nesting.TheVariants.{Opens, Closes, Keeps}
use Rattle.mk_tree.specs.LocatedLines.{LocatedLine, located_line, located_lines, located_text, AreConditionalsFit, context_after_located_lines}
use Rattle.mk_tree.specs.Documents.{IsFaithful}
use Rattle.mk_tree.specs.Admissions.{AreAdmitted}

-- a line opens at most one define
pub defines_after-few : (n : ℕ) (k : Class Cell) → defines_after n k ≤ n + 1
defines_after-few n Endef = omega arith
defines_after-few n (Body Opens) = omega arith
defines_after-few n (Body Closes) = omega arith
defines_after-few n (Body Keeps) = omega arith
defines_after-few n Recipe = omega arith
defines_after-few n Opaque = omega arith
defines_after-few n Blank = omega arith
defines_after-few n Comment = omega arith
defines_after-few n (Assign a p) = omega arith
defines_after-few n (DefineHead p) = omega arith
defines_after-few n If = omega arith
defines_after-few n Else = omega arith
defines_after-few n Endif = omega arith
defines_after-few n Directive = omega arith
defines_after-few n (TargetAssign t) = omega arith
defines_after-few n Rough = omega arith
defines_after-few n (Header h) = omega arith

-- the class of a line fits the open defines where it stands, where they are few
defines-fit : (n c : ℕ) (k : Class Cell) → n < max_text → FitsCounts n c k → FitsDefines n (located_class joined_byte k)
defines-fit n c Endef few h = omega (arith, h)
defines-fit n c (Body Opens) few h = few
defines-fit n c (Body Closes) few (m, e) = omega (arith, e)
defines-fit n c (Body Keeps) few h = tt
defines-fit n c Recipe few h = tt
defines-fit n c Opaque few h = tt
defines-fit n c Blank few h = tt
defines-fit n c Comment few h = tt
defines-fit n c (Assign a p) few h = tt
defines-fit n c (DefineHead p) few h = tt
defines-fit n c If few h = tt
defines-fit n c Else few h = tt
defines-fit n c Endif few h = tt
defines-fit n c Directive few h = tt
defines-fit n c (TargetAssign t) few h = tt
defines-fit n c Rough few h = tt
defines-fit n c (Header x) few h = tt

-- the lines of a text are admitted where their conditionals fit and they are few
admitted-classed : (c : Context) (ls : List (List ℕ)) → AreConditionalsFit c.conditionals (located_lines (classed c ls)) → c.defines + length ls ≤ max_text → AreAdmitted c (located_lines (classed c ls))
admitted-classed c [] h few = tt
admitted-classed c (l ∷ ls) h few =
    let k = class_of c l in
    let next = context_after c k in
    let e : context_after_located c (located_class joined_byte k) ≡ next = refl in
    let fits : AreConditionalsFit next.conditionals (located_lines (classed next ls)) = subst (λ (z : Context). AreConditionalsFit z.conditionals (located_lines (classed next ls))) e h.1 in
    let rest : AreAdmitted next (located_lines (classed next ls)) = admitted-classed next ls fits (omega (arith, few, defines_after-few c.defines k)) in
    ((h.0, defines-fit c.defines c.conditionals k (omega (arith, few)) (class_of-counts c l)), subst (λ (z : Context). AreAdmitted z (located_lines (classed next ls))) (sym e) rest)

-- the number of lines that are shown is the number of lines
pub length-classed : (c : Context) (ls : List (List ℕ)) → length (located_lines (classed c ls)) ≡ length ls
length-classed c [] = refl
length-classed c (l ∷ ls) = ap suc (length-classed (context_after c (class_of c l)) ls)

-- the lines of a faithful document are admitted
pub admitted-faithful : (ls : List LocatedLine) → IsFaithful ls → AreConditionalsFit 0 ls → length ls ≤ max_text → AreAdmitted start ls
admitted-faithful ls e h few =
    let own = logical_lines (located_text ls) in
    let n : 0 + length own ≤ max_text = omega (arith, few, ap length e, length-classed start own) in
    subst (AreAdmitted start) (sym e) (admitted-classed start own (subst (AreConditionalsFit 0) e h) n)

-- ---- open conditionals

-- a line that fits leaves at most 256 open
conditionals-within : (n : ℕ) (k : class.Class) → n ≤ max_conditionals → FitsConditionals n k → conditionals_after_located n k ≤ max_conditionals
conditionals-within n variants.Endef few h = few
conditionals-within n (variants.Body b) few h = few
conditionals-within n variants.Recipe few h = few
conditionals-within n variants.Opaque few h = few
conditionals-within n variants.Blank few h = few
conditionals-within n variants.Comment few h = few
conditionals-within n (variants.Assign a p) few h = few
conditionals-within n (variants.DefineHead p) few h = few
conditionals-within n variants.If few h = omega (arith, h)
conditionals-within n variants.Else few h = few
conditionals-within n variants.Endif few h = omega (arith, few)
conditionals-within n variants.Directive few h = few
conditionals-within n (variants.TargetAssign t) few h = few
conditionals-within n variants.Rough few h = few
conditionals-within n (variants.Header x) few h = few

-- lines that all fit leave at most 256 open too, after any number of them
pub conditionals-few_after : (c : Context) (ls : List LocatedLine) (n : ℕ) → c.conditionals ≤ max_conditionals → AreConditionalsFit c.conditionals ls → (context_after_located_lines c (take n ls)).conditionals ≤ max_conditionals
conditionals-few_after c ls zero few h = few
conditionals-few_after c [] (suc n) few h = few
conditionals-few_after c (l ∷ ls) (suc n) few h =
    conditionals-few_after (context_after_located c l.class) ls n (conditionals-within c.conditionals l.class few h.0) h.1

-- ---- one step of a walk over lines

-- the context after one more line
pub context_after-step : (c : Context) (ls left : List LocatedLine) (x : LocatedLine) (n : ℕ) → drop n ls ≡ x ∷ left → context_after_located_lines c (take (n + 1) ls) ≡ context_after_located (context_after_located_lines c (take n ls)) x.class
context_after-step c [] left x zero e = cc
context_after-step c [] left x (suc n) e = cc
context_after-step c (l ∷ ls) left x zero e = let same : l ≡ x = cc in ap (λ (z : LocatedLine). context_after_located c z.class) same
context_after-step c (l ∷ ls) left x (suc n) e = rw (suc-add n 1) (context_after-step (context_after_located c l.class) ls left x n e)

-- the lines that are left after one more line
pub drop-step : (ls left : List LocatedLine) (x : LocatedLine) (n : ℕ) → drop n ls ≡ x ∷ left → drop (n + 1) ls ≡ left
drop-step [] left x zero e = cc
drop-step [] left x (suc n) e = cc
drop-step (l ∷ ls) left x zero e = cc
drop-step (l ∷ ls) left x (suc n) e = rw (suc-add n 1) (drop-step ls left x n e)

-- while lines are left, a walk is not at its end
pub drop-none : (ls : List LocatedLine) (n : ℕ) → n < length ls → drop n ls ≡ [] → ⊥
drop-none [] n h e = omega (arith, h)
drop-none (l ∷ ls) zero h e = cc
drop-none (l ∷ ls) (suc n) h e = drop-none ls n (omega (arith, h)) e

-- one line passed
pub walk-step : (ls ahead left : List LocatedLine) (x : LocatedLine) (n : ℕ) (c next : Context) (k : class.Class) → drop n ls ≡ ahead → ahead ≡ x ∷ left → c ≡ context_after_located_lines start (take n ls) → AreAdmitted c ahead
    → k ≡ x.class → next ≡ context_after_located c k → (drop (n + 1) ls ≡ left) × (next ≡ context_after_located_lines start (take (n + 1) ls)) × AreAdmitted next left
walk-step ls ahead left x n c next k at e here fits same step =
    let d : drop n ls ≡ x ∷ left = at ∙ e in
    let s : next ≡ context_after_located c x.class = step ∙ ap (context_after_located c) same in
    let all : AreAdmitted c (x ∷ left) = subst (AreAdmitted c) e fits in (
      drop-step ls left x n d,
      s ∙ (ap (λ z. context_after_located z x.class) here ∙ sym (context_after-step start ls left x n d)),
      subst (λ z. AreAdmitted z left) (sym s) all.1,
    )

-- ---- the context of the definitions

context_after_located_lines-lines : (c : Context) (ls : List ClassedLine) → context_after_located_lines c (located_lines ls) ≡ context_after_lines c ls
context_after_located_lines-lines c [] = refl
context_after_located_lines-lines c (l ∷ ls) =
    context_after_located_lines-lines (context_after c l.class) ls

located_lines-take : (n : ℕ) (ls : List ClassedLine) → take n (located_lines ls) ≡ located_lines (take n ls)
located_lines-take zero ls = refl
located_lines-take (suc n) [] = refl
located_lines-take (suc n) (l ∷ ls) = ap (λ z. located_line l ∷ z) (located_lines-take n ls)

-- the context after some lines of a faithful document
pub context-faithful : (ls : List LocatedLine) (n : ℕ) → IsFaithful ls → context_after_located_lines start (take n ls) ≡ context_after_lines start (take n (classed_lines (located_text ls)))
context-faithful ls n e =
    let own = classed_lines (located_text ls) in
    ap (λ z. context_after_located_lines start (take n z)) e ∙ (ap (context_after_located_lines start) (located_lines-take n own) ∙ context_after_located_lines-lines start (take n own))

-- the context after all of them
pub context-faithful_end : (ls : List LocatedLine) → IsFaithful ls → context_after_located_lines start ls ≡ context_after_lines start (classed_lines (located_text ls))
context-faithful_end ls e = ap (context_after_located_lines start) e ∙ context_after_located_lines-lines start (classed_lines (located_text ls))

take-whole : (ls : List LocatedLine) → take (length ls) ls ≡ ls
take-whole [] = refl
take-whole (l ∷ ls) = ap (λ z. l ∷ z) (take-whole ls)

-- the context after all lines
pub context-whole : (ls self : List LocatedLine) (n : ℕ) (c : Context) → n ≡ length ls → ls ≡ self → c ≡ context_after_located_lines start (take n ls) → c ≡ context_after_located_lines start self
context-whole ls self n c count same here =
    here ∙ (ap (λ z. context_after_located_lines start (take z ls)) count ∙ (ap (context_after_located_lines start) (take-whole ls) ∙ ap (context_after_located_lines start) same))
