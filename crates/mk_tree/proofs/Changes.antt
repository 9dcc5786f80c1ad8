-- Lines put in, taken out or replaced: the bytes, and the open conditionals.
use Rattle.std.proofs.Common.{◌≡◌, ℕ, zero, suc, ◌+◌, ◌-◌, ◌<◌, ◌≤◌, ap, Some, false, refl, arith, List, [], ◌∷◌, ◌++◌, length, take, drop, suc-add}
use Rattle.std.specs.Prelude.{slice_get, IfSome}
use Rattle.mk_class.specs.Contexts.{conditionals_after_located, FitsConditionals}
use Rattle.mk_class.specs.declared.class.Class.{Class}
use Rattle.mk_class.specs.declared.class.Class.TheVariants.{Endef, Body, Recipe, Opaque, Blank, Comment, Assign, DefineHead, If, Else, Endif, Directive, TargetAssign, Rough, Header}
use Rattle.mk_tree.specs.LocatedLines.{LocatedLine, size_of, size_of_line, is_conditional_located, AreConditionalsFit}

-- a line of no conditional leaves the number of open ones
conditionals-left : (n : ℕ) (k : Class) → is_conditional_located k ≡ false → conditionals_after_located n k ≡ n
conditionals-left n Endef h = refl
conditionals-left n (Body b) h = refl
conditionals-left n Recipe h = refl
conditionals-left n Opaque h = refl
conditionals-left n Blank h = refl
conditionals-left n Comment h = refl
conditionals-left n (Assign a p) h = refl
conditionals-left n (DefineHead p) h = refl
conditionals-left n If h = cc
conditionals-left n Else h = cc
conditionals-left n Endif h = cc
conditionals-left n Directive h = refl
conditionals-left n (TargetAssign t) h = refl
conditionals-left n Rough h = refl
conditionals-left n (Header x) h = refl

-- a line of no conditional fits each number
conditionals-fit : (n : ℕ) (k : Class) → is_conditional_located k ≡ false → FitsConditionals n k
conditionals-fit n Endef h = tt
conditionals-fit n (Body b) h = tt
conditionals-fit n Recipe h = tt
conditionals-fit n Opaque h = tt
conditionals-fit n Blank h = tt
conditionals-fit n Comment h = tt
conditionals-fit n (Assign a p) h = tt
conditionals-fit n (DefineHead p) h = tt
conditionals-fit n If h = cc
conditionals-fit n Else h = cc
conditionals-fit n Endif h = cc
conditionals-fit n Directive h = tt
conditionals-fit n (TargetAssign t) h = tt
conditionals-fit n Rough h = tt
conditionals-fit n (Header x) h = tt

-- ---- one line put in

fit-before : (n : ℕ) (x : LocatedLine) (ls : List LocatedLine) → is_conditional_located x.class ≡ false → AreConditionalsFit n ls → AreConditionalsFit n (x ∷ ls)
fit-before n x ls p h = (conditionals-fit n x.class p, rw (conditionals-left n x.class p) h)

pub fit-insert : (n : ℕ) (x : LocatedLine) (ls : List LocatedLine) (at : ℕ) → is_conditional_located x.class ≡ false → AreConditionalsFit n ls → AreConditionalsFit n (take at ls ++ x ∷ drop at ls)
fit-insert n x ls zero p h = fit-before n x ls p h
fit-insert n x [] (suc at) p h = fit-before n x [] p h
fit-insert n x (l ∷ ls) (suc at) p h = (h.0, fit-insert (conditionals_after_located n l.class) x ls at p h.1)

-- ---- one line taken out

fit-after : (n : ℕ) (l : LocatedLine) (ls : List LocatedLine) → is_conditional_located l.class ≡ false → AreConditionalsFit n (l ∷ ls) → AreConditionalsFit n ls
fit-after n l ls p h = rw (conditionals-left n l.class p) at h.1

pub fit-remove : (n : ℕ) (ls : List LocatedLine) (at : ℕ) → IfSome (slice_get ls at) (λ l. is_conditional_located l.class ≡ false) → AreConditionalsFit n ls → AreConditionalsFit n (take at ls ++ drop (at + 1) ls)
fit-remove n [] zero p h = tt
fit-remove n [] (suc at) p h = rw (suc-add at 1) tt
fit-remove n (l ∷ ls) zero p h = fit-after n l ls p h
fit-remove n (l ∷ ls) (suc at) p h = (h.0, rw (suc-add at 1) (fit-remove (conditionals_after_located n l.class) ls at p h.1))

-- ---- one line for another

pub fit-replace : (n : ℕ) (x : LocatedLine) (ls : List LocatedLine) (at : ℕ) → IfSome (slice_get ls at) (λ l. is_conditional_located l.class ≡ false) → is_conditional_located x.class ≡ false
    → AreConditionalsFit n ls → AreConditionalsFit n (take at ls ++ x ∷ drop (at + 1) ls)
fit-replace n x [] zero p q h = fit-before n x [] q h
fit-replace n x [] (suc at) p q h = rw (suc-add at 1) (fit-before n x [] q h)
fit-replace n x (l ∷ ls) zero p q h = fit-before n x ls q (fit-after n l ls p h)
fit-replace n x (l ∷ ls) (suc at) p q h = (h.0, rw (suc-add at 1) (fit-replace (conditionals_after_located n l.class) x ls at p q h.1))

pub size_of-replace : (x : LocatedLine) (ls : List LocatedLine) (at : ℕ) → at < length ls → size_of (take at ls ++ x ∷ drop (at + 1) ls) + size_of_line (slice_get ls at) ≡ size_of ls + length x.bytes
size_of-replace x [] at h = absurd (omega (arith, h))
size_of-replace x (l ∷ ls) zero h = omega arith
size_of-replace x (l ∷ ls) (suc at) h = rw (suc-add at 1) (omega (arith, size_of-replace x ls at (omega (arith, h))))

-- ---- the same, through what each step leaves

pub fit-insert_steps : (x : LocatedLine) (self draft new : List LocatedLine) (at : ℕ) → draft ≡ self → is_conditional_located x.class ≡ false → AreConditionalsFit 0 self
    → new ≡ take at draft ++ x ∷ drop at draft → AreConditionalsFit 0 new
fit-insert_steps x self draft new at e p h r = rw (r, e) (fit-insert 0 x self at p h)

pub fit-remove_steps : (self draft new : List LocatedLine) (at : ℕ) → draft ≡ self → IfSome (slice_get self at) (λ l. is_conditional_located l.class ≡ false) → AreConditionalsFit 0 self
    → new ≡ take at draft ++ drop (at + 1) draft → AreConditionalsFit 0 new
fit-remove_steps self draft new at e p h r = rw (r, e) (fit-remove 0 self at p h)

pub fit-replace_steps : (x : LocatedLine) (self draft new : List LocatedLine) (at : ℕ) → draft ≡ self → IfSome (slice_get self at) (λ l. is_conditional_located l.class ≡ false)
    → is_conditional_located x.class ≡ false → AreConditionalsFit 0 self → new ≡ take at draft ++ x ∷ drop (at + 1) draft → AreConditionalsFit 0 new
fit-replace_steps x self draft new at e p q h r = rw (r, e) (fit-replace 0 x self at p q h)

-- the size of a document with one line for another
pub size-replace_steps : (size : ℕ) (x old : LocatedLine) (inside new : List LocatedLine) (at : ℕ) → size ≡ size_of inside → Some old ≡ slice_get inside at
    → size_of new + size_of_line (slice_get inside at) ≡ size_of inside + length x.bytes → (length old.bytes ≤ size + length x.bytes) × (size + length x.bytes - length old.bytes ≡ size_of new)
size-replace_steps size x old inside new at total here r =
    let own : length old.bytes ≡ size_of_line (slice_get inside at) = ap size_of_line here in
    (omega (arith, own, total, r), omega (arith, own, total, r))

-- the bytes of a document with one line for another
pub ruleset sizes = (size_of-replace)
