-- The recipe prefix in force at any line of a text is a byte that a line may begin with.
use Rattle.std.proofs.Common.{◌≡◌, refl, sym, ◌∙◌, subst, ℕ, List, [], ◌∷◌, Bool, true, false, ◌&&◌, ◌||◌, ◌==◌, cond, Some, None}
use Rattle.std.proofs.lemmas.Bool.{and_parts, not-true, eqb-true}
use Rattle.std.specs.Prelude.{nat_lt, nat_le}
use Rattle.mk_lines.specs.Bytes.{byte_kind}
use Rattle.mk_lines.specs.Bytes.ByteKind.{Ordinary}
use Rattle.mk_lines.specs.Cells.{Cell, joined_byte}
use Rattle.mk_lines.proofs.on_lists.BoolLemmas.{or-right_false}
use Rattle.mk_class.specs.ListTests.{first_passes}
use Rattle.mk_class.specs.Texts.{unit_text}
use Rattle.mk_class.specs.Assignments.{Assignment}
use Rattle.mk_class.specs.RecipePrefix.{may_be_prefix, prefix_of_value, prefix_set_by, is_read_for_prefix}
use Rattle.mk_class.specs.Arguments.{is_barred_byte, is_backslash_byte}
use Rattle.mk_class.specs.Classes.{Class}
use Rattle.mk_class.specs.Classes.Class.{Endef, Body, Recipe, Opaque, Blank, Comment, Assign, DefineHead, If, Else, Endif, Directive, TargetAssign, Rough, Header}
use Rattle.mk_class.specs.Contexts.{Context, start, context_after, prefix_after}
use Rattle.mk_class.specs.ClassTable.{class_of}
use Rattle.mk_class.specs.ClassedLines.{ClassedLine, context_after_lines}
use Rattle.mk_tree.specs.Documents.{context_of}
use Rattle.mk_tree.proofs.on_documents.LinesInText.{AreClassed, AreClassed-class, AreClassed-tail}
use Rattle.mk_edit_language.proofs.on_lines.HashLemmas.{is_hash_byte, value-no_hash}
use Rattle.mk_edit_language.proofs.on_values.FoundAssignments.{prefix-of_class}

-- a byte that a line may begin with: no LF, CR or NUL, no backslash, and no `#`
pub record CanBegin (b : ℕ) : Type 0 where
  pub not_barred : is_barred_byte b ≡ false
  pub no_backslash : is_backslash_byte b ≡ false
  pub no_hash : (35 == b) ≡ false

not_small : (b n : ℕ) → nat_le 33 b ≡ true → nat_le 33 n ≡ false → (b == n) ≡ false
not_small b n h k = go (b == n) refl
  where
    go : (t : Bool) → (b == n) ≡ t → t ≡ false
    go true e = absurd (let x : nat_le 33 n ≡ true = subst (λ z. nat_le 33 z ≡ true) (eqb-true b n e) h in let y : true ≡ false = sym x ∙ k in cc)
    go false e = refl

no_hash-back : (b : ℕ) → is_hash_byte b ≡ false → (35 == b) ≡ false
no_hash-back b h = go (35 == b) refl
  where
    go : (t : Bool) → (35 == b) ≡ t → t ≡ false
    go true e = subst (λ z. is_hash_byte z ≡ false) (sym (eqb-true 35 b e)) h
    go false e = refl

-- a byte that may be a prefix is one, if it is no `#`
prefix-can_begin : (b : ℕ) → may_be_prefix b ≡ true → is_hash_byte b ≡ false → CanBegin b
prefix-can_begin b h n =
    let p = and_parts (nat_le 33 b && nat_le b 126) _ h in
    let q = (and_parts (nat_le 33 b) _ p.0).0 in
    let s : (b == 92) ≡ false = or-right_false (b == 36) (b == 92) (not-true ((b == 36) || (b == 92)) p.1) in
    let k : byte_kind b ≡ Ordinary = rw (not_small b 10 q refl, not_small b 13 q refl, s, not_small b 32 q refl, not_small b 9 q refl) refl in
    record {
      not_barred = rw (k, not_small b 0 q refl) refl;
      no_backslash = rw k refl;
      no_hash = no_hash-back b n;
    }

value-can_begin : (v : List ℕ) (b : ℕ) → first_passes is_hash_byte v ≡ false → prefix_of_value v ≡ Some b → CanBegin b
value-can_begin [] b n h = let e : 9 ≡ b = cc in subst CanBegin e (record { not_barred = refl; no_backslash = refl; no_hash = refl })
value-can_begin (c ∷ v) b n h = go (may_be_prefix c) refl h
  where
    go : (t : Bool) → may_be_prefix c ≡ t → cond t (Some c) None ≡ Some b → CanBegin b
    go true e k = let x : c ≡ b = cc in subst CanBegin x (prefix-can_begin c e n)
    go false e k = absurd (cc)

set-can_begin : (c : Bool) (a : Assignment Cell) (b : ℕ) → first_passes is_hash_byte (unit_text joined_byte a.value) ≡ false → prefix_set_by joined_byte c a ≡ Some b → CanBegin b
set-can_begin c a b n h = go (is_read_for_prefix joined_byte c a) h
  where
    go : (t : Bool) → cond t (prefix_of_value (unit_text joined_byte a.value)) None ≡ Some b → CanBegin b
    go true k = value-can_begin (unit_text joined_byte a.value) b n k
    go false k = absurd (cc)

-- the prefix after a line
after-can_begin : (c : Context) (l : List ℕ) (k : Class Cell) → class_of c l ≡ k → CanBegin c.prefix → CanBegin (prefix_after c.prefix k)
after-can_begin c l (Assign a (Some b)) h p = set-can_begin (nat_lt 0 c.conditionals) a b (value-no_hash c l a (Some b) h) (sym (prefix-of_class c l a (Some b) h))
after-can_begin c l (Assign a None) h p = p
after-can_begin c l Endef h p = p
after-can_begin c l (Body n) h p = p
after-can_begin c l Recipe h p = p
after-can_begin c l Opaque h p = p
after-can_begin c l Blank h p = p
after-can_begin c l Comment h p = p
after-can_begin c l (DefineHead q) h p = p
after-can_begin c l If h p = p
after-can_begin c l Else h p = p
after-can_begin c l Endif h p = p
after-can_begin c l Directive h p = p
after-can_begin c l (TargetAssign t) h p = p
after-can_begin c l Rough h p = p
after-can_begin c l (Header x) h p = p

lines-can_begin : (c : Context) (ls : List ClassedLine) → AreClassed c ls → CanBegin c.prefix → CanBegin (context_after_lines c ls).prefix
lines-can_begin c [] h p = p
lines-can_begin c (l ∷ ls) h p = lines-can_begin (context_after c l.class) ls (AreClassed-tail c l ls h) (after-can_begin c l.bytes l.class (AreClassed-class c l ls h) p)

-- the prefix below lines of a text
pub context-can_begin : (above : List ClassedLine) → AreClassed start above → CanBegin (context_of above).prefix
context-can_begin above h = lines-can_begin start above h (record { not_barred = refl; no_backslash = refl; no_hash = refl })
