-- Escapes are taken away and put back; a quoted field ends at its quote.
use Rattle.std.proofs.Common.{◌≡◌, ℕ, Bool, true, false, List, [], ◌∷◌, ◌++◌, refl, sym, ap, ◌∙◌, cond, eqb-true}
use Rattle.std.specs.Prelude.{◌==◌, ◌||◌, Option, Some, None}
use Rattle.std.proofs.lemmas.Option.{some_pair_parts}
use Rattle.mk_script.specs.Fields.{is_special, escaped}
use Rattle.mk_script.specs.FieldReading.{unescaped, with_byte, until_quote}

-- a byte that is no quote and no backslash
pub not_special : (b : ℕ) → is_special b ≡ false → ((b == 34) ≡ false) × ((b == 92) ≡ false)
not_special b h = go (b == 34) (b == 92) refl refl h
  where
    go : (p q : Bool) → (b == 34) ≡ p → (b == 92) ≡ q → (p || q) ≡ false → ((b == 34) ≡ false) × ((b == 92) ≡ false)
    go true q e f k = absurd (cc)
    go false true e f k = absurd (cc)
    go false false e f k = (e, f)

pub unescaped-escaped : (field : List ℕ) → unescaped false (escaped field) ≡ field
unescaped-escaped [] = refl
unescaped-escaped (b ∷ field) = go (is_special b) refl (unescaped-escaped field)
  where
    go : (c : Bool) → is_special b ≡ c → unescaped false (escaped field) ≡ field
        → unescaped false (cond c (92 ∷ b ∷ escaped field) (b ∷ escaped field)) ≡ b ∷ field
    go true e h = ap (λ t. b ∷ t) h
    go false e h = rw ((not_special b e).1, h) refl

pub until_quote-escaped : (field rest : List ℕ) → until_quote false (escaped field ++ 34 ∷ rest) ≡ Some (escaped field, rest)
until_quote-escaped [] rest = refl
until_quote-escaped (b ∷ field) rest = go (is_special b) refl (until_quote-escaped field rest)
  where
    go : (c : Bool) → is_special b ≡ c → until_quote false (escaped field ++ 34 ∷ rest) ≡ Some (escaped field, rest)
        → until_quote false (cond c (92 ∷ b ∷ escaped field) (b ∷ escaped field) ++ 34 ∷ rest) ≡ Some (cond c (92 ∷ b ∷ escaped field) (b ∷ escaped field), rest)
    go true e h = rw (e, h) refl
    go false e h = rw ((not_special b e).0, (not_special b e).1, h) refl

-- a text that follows a backslash or not, with that backslash
abbrev with_backslash : (after_backslash : Bool) → List ℕ → List ℕ
with_backslash true text = 92 ∷ text
with_backslash false text = text

-- A text is the bytes of a field with its escapes, a quote and a rest; the first byte follows a backslash or not.
pub record IsQuoted (after_backslash : Bool) (text inner rest : List ℕ) : Type 0 where
  pub whole : text ≡ inner ++ 34 ∷ rest
  pub escapes : escaped (unescaped after_backslash inner) ≡ with_backslash after_backslash inner

-- one byte was put in front
record IsPut (b : ℕ) (o : Option (List ℕ × List ℕ)) (inner rest : List ℕ) : Type 0 where
  others : List ℕ
  was : o ≡ Some (others, rest)
  inner_is : inner ≡ b ∷ others

with_byte-some : (b : ℕ) (o : Option (List ℕ × List ℕ)) (inner rest : List ℕ) → with_byte b o ≡ Some (inner, rest) → IsPut b o inner rest
with_byte-some b None inner rest h = absurd (cc)
with_byte-some b (Some p) inner rest h =
    let parts = some_pair_parts (b ∷ p.0) inner p.1 rest h in
    record { others = p.0; was = ap (λ r. Some (p.0, r)) parts.1; inner_is = sym parts.0 }

pub until_quote-is : (s : Bool) (text inner rest : List ℕ) → until_quote s text ≡ Some (inner, rest) → IsQuoted s text inner rest
until_quote-is true [] inner rest h = absurd (cc)
until_quote-is false [] inner rest h = absurd (cc)
until_quote-is true (b ∷ text) inner rest h = go (is_special b) refl h (until_quote-is false text)
  where
    go : (c : Bool) → is_special b ≡ c → cond c (with_byte b (until_quote false text)) None ≡ Some (inner, rest)
        → ((i r : List ℕ) → until_quote false text ≡ Some (i, r) → IsQuoted false text i r) → IsQuoted true (b ∷ text) inner rest
    go true e k ih =
        let m = with_byte-some b (until_quote false text) inner rest k in
        let q = ih m.others rest m.was in
        record { whole = rw m.inner_is (ap (λ t. b ∷ t) q.whole); escapes = rw (m.inner_is, e, q.escapes) refl }
    go false e k ih = absurd (cc)
until_quote-is false (b ∷ text) inner rest h = go (b == 34) (b == 92) refl refl h (until_quote-is false text) (until_quote-is true text)
  where
    at_quote : (b == 34) ≡ true → b ≡ 34
    at_quote e = eqb-true b 34 e

    at_backslash : (b == 92) ≡ true → b ≡ 92
    at_backslash e = eqb-true b 92 e

    go : (p q : Bool) → (b == 34) ≡ p → (b == 92) ≡ q → cond p (Some ([], text)) (with_byte b (until_quote q text)) ≡ Some (inner, rest)
        → ((i r : List ℕ) → until_quote false text ≡ Some (i, r) → IsQuoted false text i r)
        → ((i r : List ℕ) → until_quote true text ≡ Some (i, r) → IsQuoted true text i r)
        → IsQuoted false (b ∷ text) inner rest
    go true q e f k ih jh =
        let parts = some_pair_parts [] inner text rest k in
        record { whole = rw (sym parts.0, sym parts.1, at_quote e) refl; escapes = rw (sym parts.0) refl }
    go false true e f k ih jh =
        let m = with_byte-some b (until_quote true text) inner rest k in
        let q = jh m.others rest m.was in
        record { whole = rw m.inner_is (ap (λ t. b ∷ t) q.whole); escapes = rw (m.inner_is, f) (q.escapes ∙ ap (λ (x : ℕ). x ∷ m.others) (sym (at_backslash f))) }
    go false false e f k ih jh =
        let m = with_byte-some b (until_quote false text) inner rest k in
        let q = ih m.others rest m.was in
        let inner_bytes : unescaped false (b ∷ m.others) ≡ b ∷ unescaped false m.others = rw f refl in
        let outer_bytes : escaped (b ∷ unescaped false m.others) ≡ b ∷ escaped (unescaped false m.others) = rw (e, f) refl in
        record {
          whole = rw m.inner_is (ap (λ t. b ∷ t) q.whole);
          escapes = rw m.inner_is (ap (λ t. escaped t) inner_bytes ∙ (outer_bytes ∙ ap (λ t. b ∷ t) q.escapes));
        }

-- ---- the walk to the quote

-- a text in front of the first of two
abbrev pub with_front : List ℕ → Option (List ℕ × List ℕ) → Option (List ℕ × List ℕ)
with_front front None = None
with_front front (Some p) = Some (front ++ p.0, p.1)
