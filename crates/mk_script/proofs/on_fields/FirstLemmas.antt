-- The first field of a line is the field that is written there.
use Rattle.std.proofs.Common.{◌≡◌, ℕ, zero, suc, ◌≤◌, length, arith, Bool, true, false, List, [], ◌∷◌, ◌++◌, refl, sym, ap, ◌∙◌, cond, take, drop, append_assoc, eqb-true, subst}
use Rattle.std.specs.Prelude.{not, ◌==◌, Option, Some, None, option_map, option_and_then}
use Rattle.std.proofs.lemmas.List.{take-append-drop, append-nil}
use Rattle.std.proofs.lemmas.Option.{some_pair_parts}
use Rattle.mk_lines.specs.Lists.{Each}
use Rattle.mk_lines.specs.Bytes.{is_blank_byte}
use Rattle.mk_script.specs.Fields.{Field, Bare, Quoted, escaped, quoted, IsBare, IsWritten, EndsField, BeginsWithField, HasFields}
use Rattle.mk_script.specs.ScriptLaws.{FieldsAreOne}
use Rattle.mk_script.specs.FieldReading.{after_blanks, blanks_before, bare_len, is_blank, ends_field, unescaped, until_quote, quoted_field, field_at_front, first_field, is_empty, fields_within}
use Rattle.mk_script.proofs.on_fields.EscapeLemmas.{unescaped-escaped, until_quote-escaped, until_quote-is}
use Rattle.mk_script.proofs.on_fields.BlankLemmas.{one_more, Stops, prefix-taken, prefix-dropped, prefix-passes, prefix-stops, stops-none, over-blanks, after_blanks-none, blanks-whole, blank-is, is-blank, ends-is, is-end, end-stops, stops-end}

-- ---- what is written is read

bare-at_front : (b : ℕ) (field rest : List ℕ) → IsBare (b ∷ field) → EndsField rest → field_at_front (b ∷ (field ++ rest)) ≡ Some (Bare (b ∷ field), rest)
bare-at_front b field rest h ends =
    let stops = stops-none (λ c. not (is_blank_byte c)) rest (end-stops rest ends) in
    let taken = prefix-taken (λ c. not (is_blank_byte c)) (b ∷ field) rest h.1 stops in
    let dropped : drop (bare_len (b ∷ (field ++ rest))) (b ∷ (field ++ rest)) ≡ rest =
    prefix-dropped (λ c. not (is_blank_byte c)) (b ∷ field) rest h.1 ∙ rw stops refl in
    rw h.0 (ap (λ t. Some (Bare t, drop (bare_len (b ∷ (field ++ rest))) (b ∷ (field ++ rest)))) taken ∙ ap (λ t. Some (Bare (b ∷ field), t)) dropped)

quoted-at_front : (field rest : List ℕ) → EndsField rest → field_at_front (quoted field ++ rest) ≡ Some (Quoted field, rest)
quoted-at_front field rest ends =
    rw (append_assoc (escaped field) (34 ∷ []) rest, until_quote-escaped field rest, is-end rest ends, unescaped-escaped field) refl

bare-starts : (field rest : List ℕ) → IsBare field → Stops is_blank_byte (field ++ rest)
bare-starts [] rest h = absurd h
bare-starts (b ∷ field) rest h = go (is_blank_byte b) refl h.1.0
  where
    go : (c : Bool) → is_blank_byte b ≡ c → not c ≡ true → is_blank_byte b ≡ false
    go true e k = absurd (cc)
    go false e k = e

bare-read : (field rest : List ℕ) → IsBare field → EndsField rest → field_at_front (field ++ rest) ≡ Some (Bare field, rest)
bare-read [] rest h ends = absurd h
bare-read (b ∷ field) rest h ends = bare-at_front b field rest h ends

written-read : (written : List ℕ) (field : Field) (rest : List ℕ) → IsWritten written field → EndsField rest → first_field (written ++ rest) ≡ Some (field, rest)
written-read written (Bare t) rest h ends =
    rw h.1 (ap (λ t. field_at_front t) (after_blanks-none (t ++ rest) (bare-starts t rest h.0)) ∙ bare-read t rest h.0 ends)
written-read written (Quoted t) rest h ends =
    rw h (ap (λ t. field_at_front t) (after_blanks-none (quoted t ++ rest) refl) ∙ quoted-at_front t rest ends)

begins-read : (line : List ℕ) (field : Field) (rest : List ℕ) → BeginsWithField line field rest → first_field line ≡ Some (field, rest)
begins-read line field rest h =
    rw h.line_is (ap (λ t. field_at_front t) (over-blanks h.blanks (h.written ++ rest) h.are_blanks) ∙ written-read h.written field rest h.is_written h.ends)

-- ---- what is read is written

-- a written field and a rest
record IsFront (text : List ℕ) (field : Field) (rest : List ℕ) : Type 0 where
  written : List ℕ
  is_written : IsWritten written field
  ends : EndsField rest
  text_is : text ≡ written ++ rest

quoted-front : (text : List ℕ) (field : Field) (rest : List ℕ) → quoted_field (until_quote false text) ≡ Some (field, rest) → IsFront (34 ∷ text) field rest
quoted-front text field rest h = go (until_quote false text) refl h
  where
    ended : (p : List ℕ × List ℕ) → until_quote false text ≡ Some p → (c : Bool) → ends_field p.1 ≡ c
        → cond {A = Option (Field × List ℕ)} c (Some (Quoted (unescaped false p.0), p.1)) None ≡ Some (field, rest) → IsFront (34 ∷ text) field rest
    ended p e true f k =
        let q = until_quote-is false text p.0 p.1 e in
        let t = unescaped false p.0 in
        let parts = some_pair_parts (Quoted t) field p.1 rest k in
        let inner : p.0 ≡ escaped t = sym q.escapes in
        record {
          written = quoted t;
          is_written = subst (λ (g : Field). IsWritten (quoted t) g) parts.0 refl;
          ends = rw (sym parts.1) (ends-is p.1 f);
          text_is = ap (λ t. 34 ∷ t) (q.whole ∙ (ap (λ t. t ++ 34 ∷ p.1) inner ∙ (ap (λ r. escaped t ++ 34 ∷ r) parts.1 ∙ sym (append_assoc (escaped t) (34 ∷ []) rest))));
        }
    ended p e false f k = absurd (cc)

    go : (o : Option (List ℕ × List ℕ)) → until_quote false text ≡ o → quoted_field o ≡ Some (field, rest) → IsFront (34 ∷ text) field rest
    go None e k = absurd (cc)
    go (Some p) e k = ended p e (ends_field p.1) refl k

bare-of : (b : ℕ) (text : List ℕ) → (b == 34) ≡ false → is_blank_byte b ≡ false → IsBare (take (bare_len (b ∷ text)) (b ∷ text))
bare-of b text quote blank = go (take (bare_len (b ∷ text)) (b ∷ text)) refl (prefix-passes (λ c. not (is_blank_byte c)) (b ∷ text))
  where
    first : take (bare_len (b ∷ text)) (b ∷ text) ≡ b ∷ take (bare_len text) text
    first = rw (blank, one_more (bare_len text)) refl

    go : (t : List ℕ) → take (bare_len (b ∷ text)) (b ∷ text) ≡ t → Each (λ c. not (is_blank_byte c)) t → IsBare t
    go [] e h = absurd (cc first)
    go (x ∷ t) e h = let same : b ≡ x = cc first in (rw (sym same) quote, h)

bare-front : (b : ℕ) (text : List ℕ) (field : Field) (rest : List ℕ) → (b == 34) ≡ false → is_blank_byte b ≡ false
    → ◌≡◌ {A = Option (Field × List ℕ)} (Some (Bare (take (bare_len (b ∷ text)) (b ∷ text)), drop (bare_len (b ∷ text)) (b ∷ text))) (Some (field, rest)) → IsFront (b ∷ text) field rest
bare-front b text field rest quote blank h =
    let t = take (bare_len (b ∷ text)) (b ∷ text) in
    let parts = some_pair_parts (Bare t) field (drop (bare_len (b ∷ text)) (b ∷ text)) rest h in
    record {
      written = t;
      is_written = subst (λ (g : Field). IsWritten t g) parts.0 (bare-of b text quote blank, refl);
      ends = rw (sym parts.1) (stops-end _ (prefix-stops (λ c. not (is_blank_byte c)) (b ∷ text)));
      text_is = sym (take-append-drop (bare_len (b ∷ text)) (b ∷ text)) ∙ ap (λ r. t ++ r) parts.1;
    }

front-is : (text : List ℕ) (field : Field) (rest : List ℕ) → Stops is_blank_byte text → field_at_front text ≡ Some (field, rest) → IsFront text field rest
front-is [] field rest stops h = absurd (cc)
front-is (b ∷ text) field rest stops h = go (b == 34) refl h
  where
    go : (c : Bool) → (b == 34) ≡ c
        → cond {A = Option (Field × List ℕ)} c (quoted_field (until_quote false text)) (Some (Bare (take (bare_len (b ∷ text)) (b ∷ text)), drop (bare_len (b ∷ text)) (b ∷ text))) ≡ Some (field, rest)
        → IsFront (b ∷ text) field rest
    go true e k = subst (λ (x : ℕ). IsFront (x ∷ text) field rest) (sym (eqb-true b 34 e)) (quoted-front text field rest k)
    go false e k = bare-front b text field rest e stops k

read-begins : (line : List ℕ) (field : Field) (rest : List ℕ) → first_field line ≡ Some (field, rest) → BeginsWithField line field rest
read-begins line field rest h =
    let front = front-is (after_blanks line) field rest (prefix-stops is_blank_byte line) h in
    record {
      blanks = take (blanks_before line) line;
      written = front.written;
      are_blanks = prefix-passes is_blank_byte line;
      is_written = front.is_written;
      ends = front.ends;
      line_is = blanks-whole line ∙ ap (λ t. take (blanks_before line) line ++ t) front.text_is;
    }

-- ---- the fields of a line

-- the fields of a line that is not blank, from its first one and what follows that
abbrev fields_from : (n : ℕ) → Option (Field × List ℕ) → Option (List Field)
fields_from n o = option_and_then (λ (p : Field × List ℕ). option_map (λ (fs : List Field). p.0 ∷ fs) (fields_within n p.1)) o

not_blank : (line : List ℕ) (f : Field) (rest : List ℕ) → first_field line ≡ Some (f, rest) → is_blank line ≡ false
not_blank line f rest h = go (after_blanks line) h
  where
    go : (t : List ℕ) → field_at_front t ≡ Some (f, rest) → is_empty t ≡ false
    go [] k = absurd (cc)
    go (b ∷ t) k = refl

pub has-fields : (n : ℕ) (line : List ℕ) (fields : List Field) → HasFields line fields → length fields ≤ n → fields_within n line ≡ Some fields
has-fields zero line [] h few = rw (is-blank line h) refl
has-fields zero line (f ∷ fs) h few = absurd (omega (arith, few))
has-fields (suc n) line [] h few = rw (is-blank line h) refl
has-fields (suc n) line (f ∷ fs) h few =
    let read = begins-read line f h.0 h.1 in
    let others = has-fields n h.0 fs h.2 (omega (arith, few)) in
    ap (λ (b : Bool). cond b (Some []) (fields_from n (first_field line))) (not_blank line f h.0 read)
    ∙ (ap (λ o. fields_from n o) read ∙ ap (λ o. option_map (λ (gs : List Field). f ∷ gs) o) others)

pub fields-has : (n : ℕ) (line : List ℕ) (fields : List Field) → fields_within n line ≡ Some fields → HasFields line fields
fields-has zero line fields h = go (is_blank line) refl h
  where
    go : (c : Bool) → is_blank line ≡ c → cond {A = Option (List Field)} c (Some []) None ≡ Some fields → HasFields line fields
    go true e k = let none : [] ≡ fields = cc in subst (λ fs. HasFields line fs) none (blank-is line e)
    go false e k = absurd (cc)
fields-has (suc n) line fields h = go (is_blank line) refl h (λ rest fs. fields-has n rest fs)
  where
    behind : (p : Field × List ℕ) → first_field line ≡ Some p → (o : Option (List Field)) → fields_within n p.1 ≡ o
        → option_map (λ (fs : List Field). p.0 ∷ fs) o ≡ Some fields → ((rest : List ℕ) (fs : List Field) → fields_within n rest ≡ Some fs → HasFields rest fs) → HasFields line fields
    behind p e None k m ih = absurd (cc)
    behind p e (Some fs) k m ih =
        let same : p.0 ∷ fs ≡ fields = cc in
        subst (λ z. HasFields line z) same (p.1, read-begins line p.0 p.1 e, ih p.1 fs k)

    front : (o : Option (Field × List ℕ)) → first_field line ≡ o → fields_from n o ≡ Some fields
        → ((rest : List ℕ) (fs : List Field) → fields_within n rest ≡ Some fs → HasFields rest fs) → HasFields line fields
    front None e k ih = absurd (cc)
    front (Some p) e k ih = behind p e (fields_within n p.1) refl k ih

    go : (c : Bool) → is_blank line ≡ c → cond c (Some []) (fields_from n (first_field line)) ≡ Some fields
        → ((rest : List ℕ) (fs : List Field) → fields_within n rest ≡ Some fs → HasFields rest fs) → HasFields line fields
    go true e k ih = let none : [] ≡ fields = cc in subst (λ fs. HasFields line fs) none (blank-is line e)
    go false e k ih = front (first_field line) refl k ih

-- ---- fields that are read one after the other

-- some fields before others
abbrev pub with_fields : (front : List Field) → Option (List Field) → Option (List Field)
with_fields front None = None
with_fields front (Some fields) = Some (front ++ fields)

with-one : (front : List Field) (f : Field) (o : Option (List Field)) → with_fields front (option_map (λ (fs : List Field). f ∷ fs) o) ≡ with_fields (front ++ f ∷ []) o
with-one front f None = refl
with-one front f (Some fs) = ap (λ zs. Some zs) (sym (append_assoc front (f ∷ []) fs))

-- one field more
pub fields-more : (n m : ℕ) (line : List ℕ) (f : Field) (rest : List ℕ) (front : List Field) → n ≡ suc m → is_blank line ≡ false → first_field line ≡ Some (f, rest)
    → with_fields front (fields_within n line) ≡ with_fields (front ++ f ∷ []) (fields_within m rest)
fields-more n m line f rest front is some read =
    ap (λ k. with_fields front (fields_within k line)) is
    ∙ (ap (λ (b : Bool). with_fields front (cond b (Some []) (fields_from m (first_field line)))) some
    ∙ (ap (λ o. with_fields front (fields_from m o)) read ∙ with-one front f (fields_within m rest)))

-- no field more
pub fields-end : (n : ℕ) (line : List ℕ) (front : List Field) → is_blank line ≡ true → with_fields front (fields_within n line) ≡ Some front
fields-end zero line front h = rw h (ap (λ zs. Some zs) (append-nil front))
fields-end (suc n) line front h = rw h (ap (λ zs. Some zs) (append-nil front))

-- ---- one list of fields

-- a line of blanks begins with no field
blank-first : (line : List ℕ) → Each is_blank_byte line → first_field line ≡ None
blank-first line h = ap (λ t. field_at_front t) (ap (λ t. after_blanks t) (sym (append-nil line)) ∙ over-blanks line [] h)

pub fields-one : FieldsAreOne
fields-one line [] [] h k = refl
fields-one line [] (g ∷ gs) h k = let none = blank-first line h in let some = begins-read line g k.0 k.1 in absurd (cc)
fields-one line (f ∷ fs) [] h k = let none = blank-first line k in let some = begins-read line f h.0 h.1 in absurd (cc)
fields-one line (f ∷ fs) (g ∷ gs) h k =
    let parts = some_pair_parts f g h.0 k.0 (sym (begins-read line f h.0 h.1) ∙ begins-read line g k.0 k.1) in
    let others = fields-one k.0 fs gs (subst (λ r. HasFields r fs) parts.1 h.2) k.2 in
    ap (λ z. z ∷ fs) parts.0 ∙ ap (λ zs. g ∷ zs) others
