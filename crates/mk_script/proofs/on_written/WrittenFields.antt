-- A field in the line of an edit is read as this field.
use Rattle.std.proofs.Common.{◌≡◌, ℕ, ◌≤◌, Bool, true, false, cond, List, [], ◌∷◌, ◌++◌, length, refl, sym, ap, ◌∙◌, arith, append_assoc, append-nil, map, codes, Bor}
use Rattle.std.specs.Prelude.{is_some, not, if◌then◌else◌, ◌==◌, ◌||◌, Option, Some, None}
use Rattle.std.specs.List.{list_any}
use Rattle.mk_lines.specs.Lists.{Each}
use Rattle.mk_lines.specs.Bytes.{is_blank_byte}
use Rattle.mk_lines.specs.Spacing.{each_after_space}
use Rattle.mk_lines.proofs.on_lists.BoolLemmas.{or-left_false, or-right_false}
use Rattle.mk_script.specs.Fields.{Field, Bare, Quoted, text, is_special, IsBare, IsWritten, quoted, escaped}
use Rattle.mk_script.specs.Blocks.{end_word}
use Rattle.mk_script.specs.WrittenEdits.{is_plain, is_quoted_byte, needs_quotes, written}
use Rattle.mk_script.specs.WrittenLines.{fields_in}

-- ---- a field

-- a field does not have to stand between quotes
no_need : (f : List ℕ) → is_plain f ≡ true → needs_quotes f ≡ false
no_need [] h = absurd (cc)
no_need (b ∷ f) h = go (needs_quotes (b ∷ f)) refl
  where
    go : (c : Bool) → needs_quotes (b ∷ f) ≡ c → c ≡ false
    go true e = absurd (let no : not (needs_quotes (b ∷ f)) ≡ false = rw e refl in cc)
    go false e = refl

-- no byte of it has to
pub no_quoted : (f : List ℕ) → is_plain f ≡ true → list_any is_quoted_byte f ≡ false
no_quoted f h = or-left_false (list_any is_quoted_byte f) (is_some (end_word (Bare f))) (no_need f h)

no_blank : (f : List ℕ) → list_any is_quoted_byte f ≡ false → Each (λ c. not (is_blank_byte c)) f
no_blank [] h = tt
no_blank (b ∷ f) h =
    let here = or-left_false (is_quoted_byte b) (list_any is_quoted_byte f) h in
    (ap not (or-left_false (is_blank_byte b) (b == 13 || b == 34) here), no_blank f (or-right_false (is_quoted_byte b) (list_any is_quoted_byte f) h))

plain-bare : (f : List ℕ) → is_plain f ≡ true → IsBare f
plain-bare [] h = absurd (cc)
plain-bare (b ∷ f) h =
    let none = no_quoted (b ∷ f) h in
    let here = or-left_false (is_quoted_byte b) (list_any is_quoted_byte f) none in
    (or-right_false (b == 13) (b == 34) (or-right_false (is_blank_byte b) (b == 13 || b == 34) here), no_blank (b ∷ f) none)

-- a field as it is written
abbrev pub as_field : List ℕ → Field
as_field f = if is_plain f then Bare f else Quoted f

pub written-is : (f : List ℕ) → IsWritten (written f) (as_field f)
written-is f = go (is_plain f) refl
  where
    go : (c : Bool) → is_plain f ≡ c → IsWritten (cond c f (quoted f)) (cond c (Bare f) (Quoted f))
    go true e = (plain-bare f e, refl)
    go false e = refl

pub text-is : (f : List ℕ) → text (as_field f) ≡ f
text-is f = go (is_plain f)
  where
    go : (c : Bool) → text (cond c (Bare f) (Quoted f)) ≡ f
    go true = refl
    go false = refl

-- it is no mark of a block
pub no_mark : (f : List ℕ) → end_word (as_field f) ≡ None
no_mark f = go (is_plain f) refl
  where
    none : (o : Option (List ℕ)) → is_some o ≡ false → o ≡ None
    none None h = refl
    none (Some x) h = absurd (cc)

    go : (c : Bool) → is_plain f ≡ c → end_word (cond c (Bare f) (Quoted f)) ≡ None
    go true e = none (end_word (Bare f)) (or-right_false (list_any is_quoted_byte f) (is_some (end_word (Bare f))) (no_need f e))
    go false e = refl

-- ---- a field between quotes

-- one byte more
pub escaped-more : (done now text rest whole : List ℕ) (b : ℕ) → text ≡ b ∷ rest → now ≡ done ++ escaped (b ∷ []) → done ++ escaped text ≡ whole → now ++ escaped rest ≡ whole
escaped-more done now text rest whole b is put h =
    ap (λ (t : List ℕ). t ++ escaped rest) put
    ∙ (append_assoc done (escaped (b ∷ [])) (escaped rest)
    ∙ (ap (λ (t : List ℕ). done ++ t) (sym (first b rest) ∙ ap escaped (sym is)) ∙ h))
  where
    first : (b : ℕ) (rest : List ℕ) → escaped (b ∷ rest) ≡ escaped (b ∷ []) ++ escaped rest
    first b rest = go (is_special b)
      where
        go : (c : Bool) → cond c (92 ∷ b ∷ escaped rest) (b ∷ escaped rest) ≡ cond c (92 ∷ b ∷ []) (b ∷ []) ++ escaped rest
        go true = refl
        go false = refl

-- the quote at the end
pub escaped-end : (old done now field text : List ℕ) → text ≡ [] → now ≡ done ++ 34 ∷ [] → done ++ escaped text ≡ old ++ 34 ∷ escaped field → now ≡ old ++ quoted field
escaped-end old done now field text none put h =
    let whole : done ≡ old ++ 34 ∷ escaped field = sym (append-nil done) ∙ (ap (λ (t : List ℕ). done ++ escaped t) (sym none) ∙ h) in
    put ∙ (ap (λ (t : List ℕ). t ++ 34 ∷ []) whole ∙ append_assoc old (34 ∷ escaped field) (34 ∷ []))

-- ---- fields put behind a line

-- one field more
pub field-more : (done now whole : List ℕ) (f : Bor (List ℕ)) (fs rest : List (Bor (List ℕ))) → fs ≡ f ∷ rest → now ≡ done ++ (codes " " ++ written f.now)
    → done ++ each_after_space (map written (fields_in fs)) ≡ whole → now ++ each_after_space (map written (fields_in rest)) ≡ whole
field-more done now whole f fs rest is put h =
    let others = each_after_space (map written (fields_in rest)) in
    ap (λ (t : List ℕ). t ++ others) put
    ∙ (append_assoc done (codes " " ++ written f.now) others
    ∙ (ap (λ (fs : List (Bor (List ℕ))). done ++ each_after_space (map written (fields_in fs))) (sym is) ∙ h))

-- a field that is not empty has to stand between quotes, or it is plain
pub plain-is : (f : List ℕ) (b : Bool) → 1 ≤ length f → b ≡ needs_quotes f → not b ≡ is_plain f
plain-is [] b some h = absurd (omega (arith, some))
plain-is (x ∷ f) b some h = ap not h

-- no field more
pub fields-done : (done whole : List ℕ) (fs : List (Bor (List ℕ))) → fs ≡ [] → done ++ each_after_space (map written (fields_in fs)) ≡ whole → done ≡ whole
fields-done done whole fs none h = sym (append-nil done) ∙ (ap (λ (fs : List (Bor (List ℕ))). done ++ each_after_space (map written (fields_in fs))) (sym none) ∙ h)
