-- Texts that are no assignment: a text whose head has no `=` is none, since a `;` before the first `=` ends the name and is no
-- part of an operator.
use Rattle.std.proofs.Common.{◌≡◌, refl, sym, ap, ◌∙◌, ℕ, List, [], ◌∷◌, ◌++◌, map, Bool, true, false, not, ◌||◌, cond, Option, Some, None, append_assoc}
use Rattle.std.specs.List.{list_any}
use Rattle.std.proofs.lemmas.List.{append-nil, map-append}
use Rattle.std.specs.Prelude.{codes}
use Rattle.mk_lines.specs.Lists.{concat, leading, after_leading, Each, FirstFails}
use Rattle.mk_lines.proofs.on_lists.ListLemmas.{Each-append, leading-after_leading, leading-each, after_leading-first_fails}
use Rattle.mk_lines.specs.Words.{Token, Gap, Word, tokens, token_units, is_gap, AreTokens}
use Rattle.mk_lines.proofs.on_units.TokenLemmas.{token_units-tokens, tokens-are_tokens}
use Rattle.mk_class.specs.ListTests.{until, from, is_empty}
use Rattle.mk_class.specs.Texts.{unit_text}
use Rattle.mk_class.specs.Symbols.{Symbol, symbol, is_equals, is_semicolon, is_semicolon_symbol, is_equals_symbol}
use Rattle.mk_class.specs.Symbols.Symbol.{Hash, Colon, Semicolon, Equals, Plus, Question, Exclamation, Bar, Ampersand, NoSymbol}
use Rattle.mk_class.specs.CutTexts.{FollowsHead}
use Rattle.mk_class.proofs.on_symbols.SymbolLemmas.{symbol-unit, gap-no_symbol, semicolon_symbol-is}
use Rattle.mk_class.specs.Assignments.{ends_name_by, after_blanks, blanks, modifier_of, assignment}
use Rattle.mk_class.specs.AssignmentsAtEquals.{flavor_before_equals, ends_name_before_equals, front_by, definition_front, front_after_units, front_after_modifier, front_of, with_value, is_no_equals}
use Rattle.mk_class.proofs.on_assignments.AssignmentEqualsLemmas.{assignment-equals, no_assignment, not_same, or_front, front_of-word}
use Rattle.mk_class.specs.declared.assignment.Flavor.{Flavor}
use Rattle.mk_class.specs.declared.assignment.Modifier.{Modifier}

-- no operator has a `;`
flavor-semicolon : (s : List Symbol) → list_any is_semicolon_symbol s ≡ true → flavor_before_equals s ≡ None
flavor-semicolon [] h = cc
flavor-semicolon (Hash ∷ s) h = refl
flavor-semicolon (Colon ∷ []) h = cc
flavor-semicolon (Colon ∷ Hash ∷ s) h = refl
flavor-semicolon (Colon ∷ Colon ∷ []) h = cc
flavor-semicolon (Colon ∷ Colon ∷ Hash ∷ s) h = refl
flavor-semicolon (Colon ∷ Colon ∷ Colon ∷ []) h = cc
flavor-semicolon (Colon ∷ Colon ∷ Colon ∷ d ∷ s) h = refl
flavor-semicolon (Colon ∷ Colon ∷ Semicolon ∷ s) h = refl
flavor-semicolon (Colon ∷ Colon ∷ Equals ∷ s) h = refl
flavor-semicolon (Colon ∷ Colon ∷ Plus ∷ s) h = refl
flavor-semicolon (Colon ∷ Colon ∷ Question ∷ s) h = refl
flavor-semicolon (Colon ∷ Colon ∷ Exclamation ∷ s) h = refl
flavor-semicolon (Colon ∷ Colon ∷ Bar ∷ s) h = refl
flavor-semicolon (Colon ∷ Colon ∷ Ampersand ∷ s) h = refl
flavor-semicolon (Colon ∷ Colon ∷ NoSymbol ∷ s) h = refl
flavor-semicolon (Colon ∷ Semicolon ∷ s) h = refl
flavor-semicolon (Colon ∷ Equals ∷ s) h = refl
flavor-semicolon (Colon ∷ Plus ∷ s) h = refl
flavor-semicolon (Colon ∷ Question ∷ s) h = refl
flavor-semicolon (Colon ∷ Exclamation ∷ s) h = refl
flavor-semicolon (Colon ∷ Bar ∷ s) h = refl
flavor-semicolon (Colon ∷ Ampersand ∷ s) h = refl
flavor-semicolon (Colon ∷ NoSymbol ∷ s) h = refl
flavor-semicolon (Semicolon ∷ s) h = refl
flavor-semicolon (Equals ∷ s) h = refl
flavor-semicolon (Plus ∷ []) h = cc
flavor-semicolon (Plus ∷ b ∷ s) h = refl
flavor-semicolon (Question ∷ []) h = cc
flavor-semicolon (Question ∷ b ∷ s) h = refl
flavor-semicolon (Exclamation ∷ []) h = cc
flavor-semicolon (Exclamation ∷ b ∷ s) h = refl
flavor-semicolon (Bar ∷ s) h = refl
flavor-semicolon (Ampersand ∷ s) h = refl
flavor-semicolon (NoSymbol ∷ s) h = refl

module _ {A : Type 0} (byte : A → ℕ) where
  -- whether there is a unit `;`
  abbrev has_semicolon : List (List A) → Bool
  has_semicolon us = list_any (is_semicolon byte) us

  or-is : (a b : Bool) → a ≡ false → (a || b) ≡ true → b ≡ true
  or-is true b h k = cc
  or-is false b h k = k

  gap-no_semicolon : (u : List A) → is_gap byte u ≡ true → is_semicolon byte u ≡ false
  gap-no_semicolon u h = ap is_semicolon_symbol (gap-no_symbol byte u h)

  semicolon-after_blanks : (us : List (List A)) → has_semicolon us ≡ true → has_semicolon (after_blanks byte us) ≡ true
  semicolon-after_blanks [] h = cc
  semicolon-after_blanks (u ∷ us) h = go (is_gap byte u) refl (λ k. semicolon-after_blanks us k)
    where
      go : (g : Bool) → is_gap byte u ≡ g → (has_semicolon us ≡ true → has_semicolon (after_blanks byte us) ≡ true) → has_semicolon (cond g (after_blanks byte us) (u ∷ us)) ≡ true
      go true e k = k (or-is (is_semicolon byte u) (has_semicolon us) (gap-no_semicolon u e) h)
      go false e k = h

  name-ends : (u : List A) (us : List (List A)) → is_semicolon byte u ≡ true → ends_name_before_equals byte (u ∷ us) ≡ true
  name-ends u us h = ap (λ s. is_gap byte u || ends_name_by s (is_empty us)) (semicolon_symbol-is (symbol byte u) h) ∙ go (is_gap byte u)
    where
      go : (g : Bool) → (g || true) ≡ true
      go true = refl
      go false = refl

  semicolon-from : (us : List (List A)) → has_semicolon us ≡ true → has_semicolon (from (ends_name_before_equals byte) us) ≡ true
  semicolon-from [] h = cc
  semicolon-from (u ∷ us) h = go (ends_name_before_equals byte (u ∷ us)) refl (is_semicolon byte u) refl (λ k. semicolon-from us k)
    where
      go : (c : Bool) → ends_name_before_equals byte (u ∷ us) ≡ c → (s : Bool) → is_semicolon byte u ≡ s
          → (has_semicolon us ≡ true → has_semicolon (from (ends_name_before_equals byte) us) ≡ true) → has_semicolon (cond c (u ∷ us) (from (ends_name_before_equals byte) us)) ≡ true
      go true e s f k = h
      go false e true f k = absurd (let m : true ≡ false = sym (name-ends u us f) ∙ e in cc)
      go false e false f k = k (or-is (is_semicolon byte u) (has_semicolon us) f h)

  semicolon-symbols : (us : List (List A)) → list_any is_semicolon_symbol (map (symbol byte) us) ≡ has_semicolon us
  semicolon-symbols [] = refl
  semicolon-symbols (u ∷ us) = ap (λ z. is_semicolon byte u || z) (semicolon-symbols us)

  no_front_by : (b n o : List (List A)) (f : Option Flavor) → f ≡ None → front_by byte f b n o ≡ None
  no_front_by b n o f h = ap (λ z. front_by byte z b n o) h

  no_definition-semicolon : (us : List (List A)) → has_semicolon us ≡ true → definition_front byte us ≡ None
  no_definition-semicolon us h =
      let N = after_blanks byte us in
      let F = from (ends_name_before_equals byte) N in
      let T = after_blanks byte F in
      no_front_by (blanks byte us) (until (ends_name_before_equals byte) N) F (flavor_before_equals (map (symbol byte) T))
      (flavor-semicolon (map (symbol byte) T) (semicolon-symbols T ∙ semicolon-after_blanks F (semicolon-from N (semicolon-after_blanks us h))))

  -- a word with a `;` is no modifier
  semicolon-text : (us : List (List A)) → has_semicolon us ≡ true → (a c : List ℕ) × (unit_text byte us ≡ a ++ 59 ∷ c)
  semicolon-text [] h = cc
  semicolon-text (u ∷ us) h = go (is_semicolon byte u) refl (λ k. semicolon-text us k)
    where
      joined : unit_text byte (u ∷ us) ≡ map byte u ++ unit_text byte us
      joined = map-append byte u (concat us)

      go : (s : Bool) → is_semicolon byte u ≡ s → (has_semicolon us ≡ true → (a c : List ℕ) × (unit_text byte us ≡ a ++ 59 ∷ c)) → (a c : List ℕ) × (unit_text byte (u ∷ us) ≡ a ++ 59 ∷ c)
      go true e k =
          let s = symbol-unit byte u Semicolon (λ x. cc) (semicolon_symbol-is (symbol byte u) e) in
          ([], unit_text byte us, joined ∙ (ap (λ z. map byte z ++ unit_text byte us) s.1 ∙ ap (λ z. z ∷ unit_text byte us) s.2))
      go false e k =
          let r = k (or-is (is_semicolon byte u) (has_semicolon us) e h) in
          (map byte u ++ r.0, r.1, joined ∙ (ap (λ z. map byte u ++ z) r.2 ∙ sym (append_assoc (map byte u) r.0 (59 ∷ r.1))))

  no_modifier-semicolon : (w : List (List A)) → has_semicolon w ≡ true → modifier_of byte w ≡ None
  no_modifier-semicolon w h =
      let t = semicolon-text w h in
      rw (
        t.2,
        not_same 59 t.0 t.1 (codes "override") refl,
        not_same 59 t.0 t.1 (codes "export") refl,
        not_same 59 t.0 t.1 (codes "private") refl,
      ) refl

  semicolon-append : (a b : List (List A)) → has_semicolon a ≡ false → has_semicolon (a ++ b) ≡ has_semicolon b
  semicolon-append [] b h = refl
  semicolon-append (u ∷ a) b h = go (is_semicolon byte u) h (λ k. semicolon-append a b k)
    where
      go : (s : Bool) → (s || has_semicolon a) ≡ false → (has_semicolon a ≡ false → has_semicolon (a ++ b) ≡ has_semicolon b) → (s || has_semicolon (a ++ b)) ≡ has_semicolon b
      go true e k = cc
      go false e k = k e

  -- what stands before the first `=` is no front if it has a `;`
  no_front-semicolon : (ts : List (Token A)) → has_semicolon (token_units ts) ≡ true → AreTokens byte ts → front_of byte ts ≡ None
  no_front-semicolon [] h a = cc
  no_front-semicolon (Gap u ∷ ts) h a = ap (front_after_units byte (u ∷ [])) (no_front-semicolon ts (or-is (is_semicolon byte u) (has_semicolon (token_units ts)) (gap-no_semicolon u a.0) h) a.1)
  no_front-semicolon (Word w ∷ ts) h a =
      front_of-word byte w ts
      ∙ (ap (λ d. or_front byte d (modifier_of byte w) w (front_of byte ts)) (no_definition-semicolon (w ++ token_units ts) h)
      ∙ go (has_semicolon w) refl (modifier_of byte w) refl (λ k. no_front-semicolon ts k a.2))
    where
      go : (s : Bool) → has_semicolon w ≡ s → (m : Option Modifier) → modifier_of byte w ≡ m → (has_semicolon (token_units ts) ≡ true → front_of byte ts ≡ None)
          → or_front byte None m w (front_of byte ts) ≡ None
      go s e None j k = refl
      go true e (Some m) j k = absurd (let q : None ≡ Some m = sym (no_modifier-semicolon w e) ∙ j in cc)
      go false e (Some m) j k = ap (front_after_modifier byte m w) (k (sym (semicolon-append w (token_units ts) e) ∙ h))

  -- there is no assignment if a `;` stands before the first `=`
  no_assignment-semicolon : (b : List (List A)) (e : List A) (r : List (List A)) → Each (is_no_equals byte) b → is_equals byte e ≡ true → has_semicolon b ≡ true → assignment byte (b ++ e ∷ r) ≡ None
  no_assignment-semicolon b e r n k h =
      assignment-equals byte b e r n k
      ∙ ap (λ z. with_value byte z e r) (no_front-semicolon (tokens byte b) (ap has_semicolon (token_units-tokens byte b) ∙ h) (tokens-are_tokens byte b))

  semicolon-in : (a b : List (List A)) (u : List A) → is_semicolon byte u ≡ true → has_semicolon (a ++ u ∷ b) ≡ true
  semicolon-in [] b u h = ap (λ z. z || has_semicolon b) h
  semicolon-in (v ∷ a) b u h = ap (λ z. is_semicolon byte v || z) (semicolon-in a b u h) ∙ go (is_semicolon byte v)
    where
      go : (g : Bool) → (g || true) ≡ true
      go true = refl
      go false = refl

  -- there is no assignment if the head has no `=`
  pub no_assignment-head : (h us : List (List A)) → Each (is_no_equals byte) h → FollowsHead byte us → assignment byte (h ++ us) ≡ None
  no_assignment-head h [] n f = ap (assignment byte) (append-nil h) ∙ no_assignment byte h n
  no_assignment-head h (u ∷ us) n f =
      go (leading (is_no_equals byte) us) (after_leading (is_no_equals byte) us) (leading-after_leading (is_no_equals byte) us) (leading-each (is_no_equals byte) us) (after_leading-first_fails (is_no_equals byte) us)
    where
      no_equals : is_no_equals byte u ≡ true
      no_equals = ap (λ s. not (is_equals_symbol s)) (semicolon_symbol-is (symbol byte u) f)

      is : (c : Bool) → not c ≡ false → c ≡ true
      is true h = refl
      is false h = cc

      go : (b r : List (List A)) → b ++ r ≡ us → Each (is_no_equals byte) b → FirstFails (is_no_equals byte) r → assignment byte (h ++ u ∷ us) ≡ None
      go b [] e m q = ap (λ z. assignment byte (h ++ u ∷ z)) (sym e ∙ append-nil b) ∙ no_assignment byte (h ++ u ∷ b) (Each-append (is_no_equals byte) h (u ∷ b) n (no_equals, m))
      go b (x ∷ r) e m q =
          ap (λ z. assignment byte (h ++ u ∷ z)) (sym e)
          ∙ (ap (assignment byte) (sym (append_assoc h (u ∷ b) (x ∷ r)))
          ∙ no_assignment-semicolon (h ++ u ∷ b) x r (Each-append (is_no_equals byte) h (u ∷ b) n (no_equals, m)) (is (is_equals byte x) q) (semicolon-in h b u f))
