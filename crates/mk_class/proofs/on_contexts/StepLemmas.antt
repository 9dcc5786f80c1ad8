-- Laws of the step over a line: each line of a text may be stepped over within the limits, and the recipe prefix in force is a
-- tab or a byte that an assignment may set.
use Rattle.std.proofs.Common.{◌≡◌, refl, sym, ◌∙◌, subst, ℕ, ◌<◌, List, [], ◌∷◌, Bool, true, false, Option, Some, None, arith}
use Rattle.std.specs.Prelude.{◌==◌, nat_lt, if◌then◌else◌}
use Rattle.std.proofs.lemmas.Bool.{or_right}
use Rattle.mk_lines.specs.Limits.{max_text}
use Rattle.mk_lines.specs.Cells.{Cell, joined_byte, line_cells}
use Rattle.mk_lines.specs.Units.{units}
use Rattle.mk_class.specs.Texts.{unit_text}
use Rattle.mk_class.specs.Assignments.{Assignment}
use Rattle.mk_class.specs.Classes.{Class}
use Rattle.mk_class.specs.LocatedClasses.{located_class}
use Rattle.mk_class.specs.RecipePrefix.{tab, may_be_prefix, is_prefix_led, prefix_of_value, is_read_for_prefix, prefix_set_by, is_prefix_byte}
use Rattle.mk_class.specs.Contexts.{Admits, Context, context_after, max_conditionals, prefix_after}
use Rattle.mk_class.specs.ClassTable.{class_of}
use Rattle.mk_class.specs.ClassedLines.{classed, context_after_lines}
use Rattle.mk_class.specs.CountsOfClasses.{FitsCounts}
use Rattle.mk_class.proofs.on_classes.ClassLemmas.{class_of-counts, plain_class-assign, assign-plain_class, class_at-assign}
use Rattle.mk_class.specs.declared.context.Nesting.TheVariants.{Opens, Closes, Keeps}

-- ---- which lines may be stepped over

-- a class that fits the counts may be stepped over, if fewer than max_text defines are open, and if a line that opens a conditional
-- finds fewer than 256 open
Admits-counts : (c : Context) (k : Class Cell) → FitsCounts c.defines c.conditionals k → (k ≡ Class.If → c.conditionals < max_conditionals) → c.defines < max_text → Admits c (located_class joined_byte k)
Admits-counts c Class.Endef f h d = (tt, omega arith)
Admits-counts c (Class.Body Opens) f h d = (tt, d)
Admits-counts c (Class.Body Closes) f h d = (tt, omega (arith, f.1))
Admits-counts c (Class.Body Keeps) f h d = (tt, tt)
Admits-counts c Class.Recipe f h d = (tt, tt)
Admits-counts c Class.Opaque f h d = (tt, tt)
Admits-counts c Class.Blank f h d = (tt, tt)
Admits-counts c Class.Comment f h d = (tt, tt)
Admits-counts c (Class.Assign a p) f h d = (tt, tt)
Admits-counts c (Class.DefineHead p) f h d = (tt, tt)
Admits-counts c Class.If f h d = (h refl, tt)
Admits-counts c Class.Else f h d = (tt, tt)
Admits-counts c Class.Endif f h d = (omega (arith, f.1.1), tt)
Admits-counts c Class.Directive f h d = (tt, tt)
Admits-counts c (Class.TargetAssign t) f h d = (tt, tt)
Admits-counts c Class.Rough f h d = (tt, tt)
Admits-counts c (Class.Header x) f h d = (tt, tt)

-- each line may be stepped over in its context
pub class_of-admits : (c : Context) (l : List ℕ) → (class_of c l ≡ Class.If → c.conditionals < max_conditionals) → c.defines < max_text → Admits c (located_class joined_byte (class_of c l))
class_of-admits c l = Admits-counts c (class_of c l) (class_of-counts c l)

some_same : (a b : ℕ) → Some a ≡ Some b → a ≡ b
some_same a b h = cc

prefix_of_value-byte : (v : List ℕ) (b : ℕ) → prefix_of_value v ≡ Some b → is_prefix_byte b ≡ true
prefix_of_value-byte [] b h = subst (λ z. is_prefix_byte z ≡ true) (some_same tab b h) refl
prefix_of_value-byte (x ∷ v) b h = go (may_be_prefix x) refl h
  where
    go : (c : Bool) → may_be_prefix x ≡ c → (if c then Some x else None) ≡ Some b → is_prefix_byte b ≡ true
    go true e k = subst (λ z. is_prefix_byte z ≡ true) (some_same x b k) (or_right (x == tab) (may_be_prefix x) e)
    go false e k = absurd (cc)

prefix_set_by-byte : (c : Bool) (a : Assignment Cell) (b : ℕ) → prefix_set_by joined_byte c a ≡ Some b → is_prefix_byte b ≡ true
prefix_set_by-byte c a b h = go (is_read_for_prefix joined_byte c a) h
  where
    go : (r : Bool) → (if r then prefix_of_value (unit_text joined_byte a.value) else None) ≡ Some b → is_prefix_byte b ≡ true
    go true k = prefix_of_value-byte (unit_text joined_byte a.value) b k
    go false k = absurd (cc)

same_prefix : (a : Assignment Cell) (p q : Option ℕ) → Class.Assign a p ≡ Class.Assign a q → p ≡ q
same_prefix a p q h = cc

-- a line that sets the prefix sets a byte that may be one
class_of-prefix_byte : (c : Context) (l : List ℕ) (a : Assignment Cell) (b : ℕ) → class_of c l ≡ Class.Assign a (Some b) → is_prefix_byte b ≡ true
class_of-prefix_byte c l a b h =
    let led = is_prefix_led c.prefix l in
    let open_conditional = nat_lt 0 c.conditionals in
    let cs = line_cells l in
    let us = units joined_byte (line_cells l) in
    let outside = class_at-assign led c.defines c.flag open_conditional cs us a (Some b) h in
    let line = plain_class-assign led open_conditional cs us a (Some b) outside.here in
    prefix_set_by-byte open_conditional a b (same_prefix a (prefix_set_by joined_byte open_conditional a) (Some b) (sym (assign-plain_class led open_conditional cs us a line) ∙ outside.here))

context_after-prefix_byte : (c : Context) (l : List ℕ) → is_prefix_byte c.prefix ≡ true → is_prefix_byte (prefix_after c.prefix (class_of c l)) ≡ true
context_after-prefix_byte c l h = go (class_of c l) refl
  where
    go : (k : Class Cell) → class_of c l ≡ k → is_prefix_byte (prefix_after c.prefix k) ≡ true
    go (Class.Assign a (Some b)) e = class_of-prefix_byte c l a b e
    go (Class.Assign a None) e = h
    go Class.Endef e = h
    go (Class.Body n) e = h
    go Class.Recipe e = h
    go Class.Opaque e = h
    go Class.Blank e = h
    go Class.Comment e = h
    go (Class.DefineHead p) e = h
    go Class.If e = h
    go Class.Else e = h
    go Class.Endif e = h
    go Class.Directive e = h
    go (Class.TargetAssign t) e = h
    go Class.Rough e = h
    go (Class.Header x) e = h

-- if such a byte is in force before some lines, one is in force after them
pub classed-prefix_byte : (c : Context) (ls : List (List ℕ)) → is_prefix_byte c.prefix ≡ true → is_prefix_byte (context_after_lines c (classed c ls)).prefix ≡ true
classed-prefix_byte c [] h = h
classed-prefix_byte c (l ∷ ls) h = classed-prefix_byte (context_after c (class_of c l)) ls (context_after-prefix_byte c l h)
