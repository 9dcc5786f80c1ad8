-- A field between quotes, and what stands between them.
use Rattle.std.proofs.Common.{◌≡◌, ℕ, Bool, true, false, List, [], ◌∷◌, refl, sym, ◌∙◌, inl, inr}
use Rattle.std.specs.Prelude.{◌==◌, ◌||◌}
use Rattle.std.specs.List.{list_any}
use Rattle.mk_script.specs.Fields.{is_special, escaped}
use Rattle.mk_script.specs.FieldReading.{unescaped, IsEscaped}
use Rattle.mk_script.specs.SeenFields.{IsWrittenPlain, is_of_no_word}
use Rattle.mk_script.proofs.on_fields.EscapeLemmas.{not_special}

-- the first byte and the others, if none of them is a quote or a backslash
none-parts : (b : ℕ) (text : List ℕ) → list_any is_special (b ∷ text) ≡ false → (is_special b ≡ false) × (list_any is_special text ≡ false)
none-parts b text h = go (is_special b) refl h
  where
    go : (c : Bool) → is_special b ≡ c → (c || list_any is_special text) ≡ false → (is_special b ≡ false) × (list_any is_special text ≡ false)
    go true e k = absurd (cc)
    go false e k = (e, k)

plain-unescaped : (text : List ℕ) → list_any is_special text ≡ false → unescaped false text ≡ text
plain-unescaped [] h = refl
plain-unescaped (b ∷ text) h =
    let parts = none-parts b text h in
    rw ((not_special b parts.0).1, plain-unescaped text parts.1) refl

plain-escaped : (text : List ℕ) → list_any is_special text ≡ false → escaped text ≡ text
plain-escaped [] h = refl
plain-escaped (b ∷ text) h =
    let parts = none-parts b text h in
    rw (parts.0, plain-escaped text parts.1) refl

-- a quote or a backslash is a byte that no word has
any-more : (text : List ℕ) → list_any is_special text ≡ true → list_any is_of_no_word text ≡ true
any-more [] h = absurd (cc)
any-more (b ∷ text) h = go (is_special b) refl h (any-more text)
  where
    go : (c : Bool) → is_special b ≡ c → (c || list_any is_special text) ≡ true → (list_any is_special text ≡ true → list_any is_of_no_word text ≡ true)
        → ((c || b == 10) || list_any is_of_no_word text) ≡ true
    go true e k ih = refl
    go false e k ih = last (b == 10) (ih k)
      where
        last : (d : Bool) → list_any is_of_no_word text ≡ true → (d || list_any is_of_no_word text) ≡ true
        last true k = refl
        last false k = k

pub written_plain : (text : List ℕ) → IsEscaped text → IsWrittenPlain (unescaped false text) text
written_plain text h = go (list_any is_special text) refl (list_any is_special (unescaped false text)) refl
  where
    go : (c : Bool) → list_any is_special text ≡ c → (d : Bool) → list_any is_special (unescaped false text) ≡ d → IsWrittenPlain (unescaped false text) text
    go false e d f = inl (sym (plain-unescaped text e))
    go true e true f = inr (any-more (unescaped false text) f, any-more text e)
    go true e false f = inl (sym h ∙ plain-escaped (unescaped false text) f)
