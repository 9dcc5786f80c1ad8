-- The context that is passed from line to line is the context that all the lines at once tell.
use Rattle.std.proofs.Common.{◌≡◌, refl, sym, ap, ◌∙◌, arith, ℕ, List, [], ◌∷◌, ◌++◌, Bool, true, false, cond, Some, None, reverse, ◌+◌}
use Rattle.std.specs.Prelude.{if◌then◌else◌}
use Rattle.std.proofs.lemmas.List.{reverse-append, reverse-reverse}
use Rattle.mk_lines.specs.Lists.{after_leading}
use Rattle.mk_lines.specs.Cells.{Cell}
use Rattle.mk_class.specs.Classes.{Class, leaves_flag}
use Rattle.mk_class.specs.Classes.Class.{Endef, Body, Recipe, Opaque, Blank, Comment, Assign, DefineHead, If, Else, Endif, Directive, TargetAssign, Rough, Header}
use Rattle.mk_class.specs.Contexts.{Context, start, context_after, flag_after, defines_after, conditionals_after, prefix_after}
use Rattle.mk_class.specs.ClassTable.{class_of}
use Rattle.mk_class.specs.ClassedLines.{ClassedLine, classed, context_after_lines}
use Rattle.mk_class.specs.ContextsOfLines.{flag_set_by, first_flag, flag_after_lines, leaves_prefix, prefix_set_by_class, first_prefix, prefix_after_lines, class_count, opens_define, closes_define, opens_conditional, closes_conditional}
use Rattle.mk_class.proofs.on_contexts.FlagLemmas.{context_after_lines-append, flag_after-left}
use Rattle.mk_class.specs.CountsOfClasses.{FitsCounts}
use Rattle.mk_class.proofs.on_classes.ClassLemmas.{class_of-counts}
use Rattle.mk_class.specs.declared.context.RuleFlag.{RuleFlag}
use Rattle.mk_class.specs.declared.context.Nesting.TheVariants.{Opens, Closes, Keeps}

-- ---- flag and prefix

flag-set : (f : RuleFlag) (k : Class Cell) → leaves_flag k ≡ false → flag_after f k ≡ flag_set_by k
flag-set f Endef h = refl
flag-set f (Body n) h = refl
flag-set f Recipe h = refl
flag-set f Opaque h = refl
flag-set f Blank h = cc
flag-set f Comment h = cc
flag-set f (Assign a p) h = refl
flag-set f (DefineHead p) h = refl
flag-set f If h = cc
flag-set f Else h = cc
flag-set f Endif h = cc
flag-set f Directive h = refl
flag-set f (TargetAssign t) h = refl
flag-set f Rough h = refl
flag-set f (Header x) h = refl

prefix-set : (f : ℕ) (k : Class Cell) → leaves_prefix k ≡ false → prefix_after f k ≡ prefix_set_by_class k
prefix-set f Endef h = cc
prefix-set f (Body n) h = cc
prefix-set f Recipe h = cc
prefix-set f Opaque h = cc
prefix-set f Blank h = cc
prefix-set f Comment h = cc
prefix-set f (Assign a None) h = cc
prefix-set f (Assign a (Some b)) h = refl
prefix-set f (DefineHead p) h = cc
prefix-set f If h = cc
prefix-set f Else h = cc
prefix-set f Endif h = cc
prefix-set f Directive h = cc
prefix-set f (TargetAssign t) h = cc
prefix-set f Rough h = cc
prefix-set f (Header x) h = cc

prefix-left : (f : ℕ) (k : Class Cell) → leaves_prefix k ≡ true → prefix_after f k ≡ f
prefix-left f Endef h = refl
prefix-left f (Body n) h = refl
prefix-left f Recipe h = refl
prefix-left f Opaque h = refl
prefix-left f Blank h = refl
prefix-left f Comment h = refl
prefix-left f (Assign a None) h = refl
prefix-left f (Assign a (Some b)) h = cc
prefix-left f (DefineHead p) h = refl
prefix-left f If h = refl
prefix-left f Else h = refl
prefix-left f Endif h = refl
prefix-left f Directive h = refl
prefix-left f (TargetAssign t) h = refl
prefix-left f Rough h = refl
prefix-left f (Header x) h = refl

-- the context after some lines and one more
after_last : (c : Context) (ls : List ClassedLine) (l : ClassedLine) → context_after_lines c (ls ++ l ∷ []) ≡ context_after (context_after_lines c ls) l.class
after_last c ls l = context_after_lines-append c ls (l ∷ [])

reverse-cons : (l : ClassedLine) (rs : List ClassedLine) → reverse (l ∷ rs) ≡ reverse rs ++ l ∷ []
reverse-cons l rs = reverse-append (l ∷ []) rs

flag-reverse : (rs : List ClassedLine) → (context_after_lines start (reverse rs)).flag ≡ first_flag (after_leading (λ l. leaves_flag l.class) rs)
flag-reverse [] = refl
flag-reverse (l ∷ rs) =
    ap (λ z. (context_after_lines start z).flag) (reverse-cons l rs)
    ∙ (ap (λ z. z.flag) (after_last start (reverse rs) l) ∙ go (leaves_flag l.class) refl (flag-reverse rs))
  where
    go : (q : Bool) → leaves_flag l.class ≡ q → (context_after_lines start (reverse rs)).flag ≡ first_flag (after_leading (λ l. leaves_flag l.class) rs)
        → flag_after (context_after_lines start (reverse rs)).flag l.class ≡ first_flag (cond q (after_leading (λ l. leaves_flag l.class) rs) (l ∷ rs))
    go true e ih = flag_after-left (context_after_lines start (reverse rs)).flag l.class e ∙ ih
    go false e ih = flag-set (context_after_lines start (reverse rs)).flag l.class e

prefix-reverse : (rs : List ClassedLine) → (context_after_lines start (reverse rs)).prefix ≡ first_prefix (after_leading (λ l. leaves_prefix l.class) rs)
prefix-reverse [] = refl
prefix-reverse (l ∷ rs) =
    ap (λ z. (context_after_lines start z).prefix) (reverse-cons l rs)
    ∙ (ap (λ z. z.prefix) (after_last start (reverse rs) l) ∙ go (leaves_prefix l.class) refl (prefix-reverse rs))
  where
    go : (q : Bool) → leaves_prefix l.class ≡ q → (context_after_lines start (reverse rs)).prefix ≡ first_prefix (after_leading (λ l. leaves_prefix l.class) rs)
        → prefix_after (context_after_lines start (reverse rs)).prefix l.class ≡ first_prefix (cond q (after_leading (λ l. leaves_prefix l.class) rs) (l ∷ rs))
    go true e ih = prefix-left (context_after_lines start (reverse rs)).prefix l.class e ∙ ih
    go false e ih = prefix-set (context_after_lines start (reverse rs)).prefix l.class e

-- the flag after some lines
pub context-flag : (ls : List ClassedLine) → (context_after_lines start ls).flag ≡ flag_after_lines ls
context-flag ls = ap (λ z. (context_after_lines start z).flag) (sym (reverse-reverse ls)) ∙ flag-reverse (reverse ls)

-- the prefix after some lines
pub context-prefix : (ls : List ClassedLine) → (context_after_lines start ls).prefix ≡ prefix_after_lines ls
context-prefix ls = ap (λ z. (context_after_lines start z).prefix) (sym (reverse-reverse ls)) ∙ prefix-reverse (reverse ls)

-- ---- defines and conditionals

-- a number with what a class adds to it and takes from it
counted : (after before opened closed X O C : ℕ) → after + closed ≡ before + opened → X + C ≡ after + O → X + (closed + C) ≡ before + (opened + O)
counted after before opened closed X O C h k = omega arith

define-step : (n c : ℕ) (k : Class Cell) → FitsCounts n c k → defines_after n k + (if closes_define k then 1 else 0) ≡ n + (if opens_define k then 1 else 0)
define-step n c Endef h = rw h refl
define-step n c (Body Opens) h = omega arith
define-step n c (Body Closes) h = rw h.1 (omega arith)
define-step n c (Body Keeps) h = refl
define-step n c Recipe h = refl
define-step n c Opaque h = refl
define-step n c Blank h = refl
define-step n c Comment h = refl
define-step n c (Assign a p) h = refl
define-step n c (DefineHead p) h = rw h refl
define-step n c If h = refl
define-step n c Else h = refl
define-step n c Endif h = refl
define-step n c Directive h = refl
define-step n c (TargetAssign t) h = refl
define-step n c Rough h = refl
define-step n c (Header x) h = refl

conditional-step : (n c : ℕ) (k : Class Cell) → FitsCounts n c k → conditionals_after c k + (if closes_conditional k then 1 else 0) ≡ c + (if opens_conditional k then 1 else 0)
conditional-step n c Endef h = refl
conditional-step n c (Body Opens) h = refl
conditional-step n c (Body Closes) h = refl
conditional-step n c (Body Keeps) h = refl
conditional-step n c Recipe h = refl
conditional-step n c Opaque h = refl
conditional-step n c Blank h = refl
conditional-step n c Comment h = refl
conditional-step n c (Assign a p) h = refl
conditional-step n c (DefineHead p) h = refl
conditional-step n c If h = omega arith
conditional-step n c Else h = refl
conditional-step n c Endif h = rw h.1.1 (omega arith)
conditional-step n c Directive h = refl
conditional-step n c (TargetAssign t) h = refl
conditional-step n c Rough h = refl
conditional-step n c (Header x) h = refl

defines-from : (c : Context) (ls : List (List ℕ)) → (context_after_lines c (classed c ls)).defines + class_count closes_define (classed c ls) ≡ c.defines + class_count opens_define (classed c ls)
defines-from c [] = refl
defines-from c (l ∷ ls) =
    let k = class_of c l in
    let d = context_after c k in
    counted d.defines c.defines (if opens_define k then 1 else 0) (if closes_define k then 1 else 0)
    ((context_after_lines d (classed d ls)).defines) (class_count opens_define (classed d ls)) (class_count closes_define (classed d ls))
    (define-step c.defines c.conditionals k (class_of-counts c l)) (defines-from d ls)

conditionals-from : (c : Context) (ls : List (List ℕ))
    → (context_after_lines c (classed c ls)).conditionals + class_count closes_conditional (classed c ls) ≡ c.conditionals + class_count opens_conditional (classed c ls)
conditionals-from c [] = refl
conditionals-from c (l ∷ ls) =
    let k = class_of c l in
    let d = context_after c k in
    counted d.conditionals c.conditionals (if opens_conditional k then 1 else 0) (if closes_conditional k then 1 else 0)
    ((context_after_lines d (classed d ls)).conditionals) (class_count opens_conditional (classed d ls)) (class_count closes_conditional (classed d ls))
    (conditional-step c.defines c.conditionals k (class_of-counts c l)) (conditionals-from d ls)

-- the open defines after the lines of a text
pub context-defines : (ls : List (List ℕ)) → (context_after_lines start (classed start ls)).defines + class_count closes_define (classed start ls) ≡ class_count opens_define (classed start ls)
context-defines ls = let e : 0 + class_count opens_define (classed start ls) ≡ class_count opens_define (classed start ls) = omega arith in defines-from start ls ∙ e

-- the open conditionals after the lines of a text
pub context-conditionals : (ls : List (List ℕ)) → (context_after_lines start (classed start ls)).conditionals + class_count closes_conditional (classed start ls) ≡ class_count opens_conditional (classed start ls)
context-conditionals ls = let e : 0 + class_count opens_conditional (classed start ls) ≡ class_count opens_conditional (classed start ls) = omega arith in conditionals-from start ls ∙ e
