-- Assignments by their first unit `=` are the assignments that are defined by the longest operator.
use Rattle.std.proofs.Common.{◌≡◌, refl, sym, ap, ◌∙◌, subst, ℕ, suc, List, [], ◌∷◌, ◌++◌, map, Bool, true, false, not, ◌==◌, ◌&&◌, ◌||◌, cond, Option, Some, None, append_assoc, length, take, drop}
use Rattle.std.specs.Str.{bytes_eq}
use Rattle.std.specs.List.{list_any}
use Rattle.std.proofs.lemmas.List.{append-nil, map-append}
use Rattle.std.proofs.Math.Seq.{take-append_seam, drop-append_seam}
use Rattle.std.specs.Prelude.{codes}
use Rattle.mk_lines.specs.Lists.{concat, leading, after_leading, Each, FirstFails}
use Rattle.mk_lines.proofs.on_lists.ListLemmas.{leading-append, after_leading-append, leading-after_leading, leading-each, after_leading-first_fails, concat-append, Each-right}
use Rattle.mk_lines.specs.Words.{Token, Gap, Word, tokens, before_tokens, token_units, is_gap}
use Rattle.mk_lines.proofs.on_units.TokenLemmas.{token_units-tokens}
use Rattle.mk_class.specs.ListTests.{until, from, is_empty, first_passes}
use Rattle.mk_class.specs.Texts.{unit_text}
use Rattle.mk_class.specs.Symbols.{Symbol, symbol, is_equals, is_equals_symbol}
use Rattle.mk_class.specs.Symbols.Symbol.{Hash, Colon, Semicolon, Equals, Plus, Question, Exclamation, Bar, Ampersand, NoSymbol}
use Rattle.mk_class.proofs.on_symbols.SymbolLemmas.{symbol-unit, equals-symbol, equals-no_gap}
use Rattle.mk_class.specs.Assignments.{Assignment, operator_at, operator_length, ends_name_by, ends_name, after_blanks, blanks, defined_by, definition_of, definition, modifier_of, after_units, after_modifier, assignment_of, assignment}
use Rattle.mk_class.specs.AssignmentsAtEquals.{Front, flavor_before_equals, ends_name_before_equals, front_by, front_after_blanks, definition_front, front_after_units, front_after_modifier, front_of, with_value, is_no_equals, assignment_from, assignment_at_equals}
use Rattle.mk_class.specs.declared.assignment.Flavor.{Flavor}
use Rattle.mk_class.specs.declared.assignment.Flavor.TheVariants.{Recursive, Simple, PosixSimple, Immediate, Conditional, Append, Shell}
use Rattle.mk_class.specs.declared.assignment.Modifier.{Modifier}

-- ---- operators

-- whether a symbol is no `=`
abbrev is_no_equals_symbol : Symbol → Bool
is_no_equals_symbol s = not (is_equals_symbol s)

-- no operator stands where there is no `=`
no_operator : (s : List Symbol) → Each is_no_equals_symbol s → operator_at s ≡ None
no_operator [] h = refl
no_operator (Hash ∷ s) h = refl
no_operator (Colon ∷ []) h = refl
no_operator (Colon ∷ Hash ∷ s) h = refl
no_operator (Colon ∷ Colon ∷ []) h = refl
no_operator (Colon ∷ Colon ∷ Hash ∷ s) h = refl
no_operator (Colon ∷ Colon ∷ Colon ∷ []) h = refl
no_operator (Colon ∷ Colon ∷ Colon ∷ Hash ∷ s) h = refl
no_operator (Colon ∷ Colon ∷ Colon ∷ Colon ∷ s) h = refl
no_operator (Colon ∷ Colon ∷ Colon ∷ Semicolon ∷ s) h = refl
no_operator (Colon ∷ Colon ∷ Colon ∷ Equals ∷ s) h = (let k : false ≡ true = h.1.1.1.0 in cc)
no_operator (Colon ∷ Colon ∷ Colon ∷ Plus ∷ s) h = refl
no_operator (Colon ∷ Colon ∷ Colon ∷ Question ∷ s) h = refl
no_operator (Colon ∷ Colon ∷ Colon ∷ Exclamation ∷ s) h = refl
no_operator (Colon ∷ Colon ∷ Colon ∷ Bar ∷ s) h = refl
no_operator (Colon ∷ Colon ∷ Colon ∷ Ampersand ∷ s) h = refl
no_operator (Colon ∷ Colon ∷ Colon ∷ NoSymbol ∷ s) h = refl
no_operator (Colon ∷ Colon ∷ Semicolon ∷ s) h = refl
no_operator (Colon ∷ Colon ∷ Equals ∷ s) h = (let k : false ≡ true = h.1.1.0 in cc)
no_operator (Colon ∷ Colon ∷ Plus ∷ s) h = refl
no_operator (Colon ∷ Colon ∷ Question ∷ s) h = refl
no_operator (Colon ∷ Colon ∷ Exclamation ∷ s) h = refl
no_operator (Colon ∷ Colon ∷ Bar ∷ s) h = refl
no_operator (Colon ∷ Colon ∷ Ampersand ∷ s) h = refl
no_operator (Colon ∷ Colon ∷ NoSymbol ∷ s) h = refl
no_operator (Colon ∷ Semicolon ∷ s) h = refl
no_operator (Colon ∷ Equals ∷ s) h = (let k : false ≡ true = h.1.0 in cc)
no_operator (Colon ∷ Plus ∷ s) h = refl
no_operator (Colon ∷ Question ∷ s) h = refl
no_operator (Colon ∷ Exclamation ∷ s) h = refl
no_operator (Colon ∷ Bar ∷ s) h = refl
no_operator (Colon ∷ Ampersand ∷ s) h = refl
no_operator (Colon ∷ NoSymbol ∷ s) h = refl
no_operator (Semicolon ∷ s) h = refl
no_operator (Equals ∷ s) h = cc
no_operator (Plus ∷ []) h = refl
no_operator (Plus ∷ Hash ∷ s) h = refl
no_operator (Plus ∷ Colon ∷ s) h = refl
no_operator (Plus ∷ Semicolon ∷ s) h = refl
no_operator (Plus ∷ Equals ∷ s) h = (let k : false ≡ true = h.1.0 in cc)
no_operator (Plus ∷ Plus ∷ s) h = refl
no_operator (Plus ∷ Question ∷ s) h = refl
no_operator (Plus ∷ Exclamation ∷ s) h = refl
no_operator (Plus ∷ Bar ∷ s) h = refl
no_operator (Plus ∷ Ampersand ∷ s) h = refl
no_operator (Plus ∷ NoSymbol ∷ s) h = refl
no_operator (Question ∷ []) h = refl
no_operator (Question ∷ Hash ∷ s) h = refl
no_operator (Question ∷ Colon ∷ s) h = refl
no_operator (Question ∷ Semicolon ∷ s) h = refl
no_operator (Question ∷ Equals ∷ s) h = (let k : false ≡ true = h.1.0 in cc)
no_operator (Question ∷ Plus ∷ s) h = refl
no_operator (Question ∷ Question ∷ s) h = refl
no_operator (Question ∷ Exclamation ∷ s) h = refl
no_operator (Question ∷ Bar ∷ s) h = refl
no_operator (Question ∷ Ampersand ∷ s) h = refl
no_operator (Question ∷ NoSymbol ∷ s) h = refl
no_operator (Exclamation ∷ []) h = refl
no_operator (Exclamation ∷ Hash ∷ s) h = refl
no_operator (Exclamation ∷ Colon ∷ s) h = refl
no_operator (Exclamation ∷ Semicolon ∷ s) h = refl
no_operator (Exclamation ∷ Equals ∷ s) h = (let k : false ≡ true = h.1.0 in cc)
no_operator (Exclamation ∷ Plus ∷ s) h = refl
no_operator (Exclamation ∷ Question ∷ s) h = refl
no_operator (Exclamation ∷ Exclamation ∷ s) h = refl
no_operator (Exclamation ∷ Bar ∷ s) h = refl
no_operator (Exclamation ∷ Ampersand ∷ s) h = refl
no_operator (Exclamation ∷ NoSymbol ∷ s) h = refl
no_operator (Bar ∷ s) h = refl
no_operator (Ampersand ∷ s) h = refl
no_operator (NoSymbol ∷ s) h = refl

-- the operator that stands before a `=` is told by the symbols before the `=`
operator-equals : (s z : List Symbol) → Each is_no_equals_symbol s → operator_at (s ++ Equals ∷ z) ≡ flavor_before_equals s
operator-equals [] z h = refl
operator-equals (Hash ∷ s) z h = refl
operator-equals (Colon ∷ []) z h = refl
operator-equals (Colon ∷ Hash ∷ s) z h = refl
operator-equals (Colon ∷ Colon ∷ []) z h = refl
operator-equals (Colon ∷ Colon ∷ Hash ∷ s) z h = refl
operator-equals (Colon ∷ Colon ∷ Colon ∷ []) z h = refl
operator-equals (Colon ∷ Colon ∷ Colon ∷ Hash ∷ s) z h = refl
operator-equals (Colon ∷ Colon ∷ Colon ∷ Colon ∷ s) z h = refl
operator-equals (Colon ∷ Colon ∷ Colon ∷ Semicolon ∷ s) z h = refl
operator-equals (Colon ∷ Colon ∷ Colon ∷ Equals ∷ s) z h = (let k : false ≡ true = h.1.1.1.0 in cc)
operator-equals (Colon ∷ Colon ∷ Colon ∷ Plus ∷ s) z h = refl
operator-equals (Colon ∷ Colon ∷ Colon ∷ Question ∷ s) z h = refl
operator-equals (Colon ∷ Colon ∷ Colon ∷ Exclamation ∷ s) z h = refl
operator-equals (Colon ∷ Colon ∷ Colon ∷ Bar ∷ s) z h = refl
operator-equals (Colon ∷ Colon ∷ Colon ∷ Ampersand ∷ s) z h = refl
operator-equals (Colon ∷ Colon ∷ Colon ∷ NoSymbol ∷ s) z h = refl
operator-equals (Colon ∷ Colon ∷ Semicolon ∷ s) z h = refl
operator-equals (Colon ∷ Colon ∷ Equals ∷ s) z h = (let k : false ≡ true = h.1.1.0 in cc)
operator-equals (Colon ∷ Colon ∷ Plus ∷ s) z h = refl
operator-equals (Colon ∷ Colon ∷ Question ∷ s) z h = refl
operator-equals (Colon ∷ Colon ∷ Exclamation ∷ s) z h = refl
operator-equals (Colon ∷ Colon ∷ Bar ∷ s) z h = refl
operator-equals (Colon ∷ Colon ∷ Ampersand ∷ s) z h = refl
operator-equals (Colon ∷ Colon ∷ NoSymbol ∷ s) z h = refl
operator-equals (Colon ∷ Semicolon ∷ s) z h = refl
operator-equals (Colon ∷ Equals ∷ s) z h = (let k : false ≡ true = h.1.0 in cc)
operator-equals (Colon ∷ Plus ∷ s) z h = refl
operator-equals (Colon ∷ Question ∷ s) z h = refl
operator-equals (Colon ∷ Exclamation ∷ s) z h = refl
operator-equals (Colon ∷ Bar ∷ s) z h = refl
operator-equals (Colon ∷ Ampersand ∷ s) z h = refl
operator-equals (Colon ∷ NoSymbol ∷ s) z h = refl
operator-equals (Semicolon ∷ s) z h = refl
operator-equals (Equals ∷ s) z h = cc
operator-equals (Plus ∷ []) z h = refl
operator-equals (Plus ∷ Hash ∷ s) z h = refl
operator-equals (Plus ∷ Colon ∷ s) z h = refl
operator-equals (Plus ∷ Semicolon ∷ s) z h = refl
operator-equals (Plus ∷ Equals ∷ s) z h = (let k : false ≡ true = h.1.0 in cc)
operator-equals (Plus ∷ Plus ∷ s) z h = refl
operator-equals (Plus ∷ Question ∷ s) z h = refl
operator-equals (Plus ∷ Exclamation ∷ s) z h = refl
operator-equals (Plus ∷ Bar ∷ s) z h = refl
operator-equals (Plus ∷ Ampersand ∷ s) z h = refl
operator-equals (Plus ∷ NoSymbol ∷ s) z h = refl
operator-equals (Question ∷ []) z h = refl
operator-equals (Question ∷ Hash ∷ s) z h = refl
operator-equals (Question ∷ Colon ∷ s) z h = refl
operator-equals (Question ∷ Semicolon ∷ s) z h = refl
operator-equals (Question ∷ Equals ∷ s) z h = (let k : false ≡ true = h.1.0 in cc)
operator-equals (Question ∷ Plus ∷ s) z h = refl
operator-equals (Question ∷ Question ∷ s) z h = refl
operator-equals (Question ∷ Exclamation ∷ s) z h = refl
operator-equals (Question ∷ Bar ∷ s) z h = refl
operator-equals (Question ∷ Ampersand ∷ s) z h = refl
operator-equals (Question ∷ NoSymbol ∷ s) z h = refl
operator-equals (Exclamation ∷ []) z h = refl
operator-equals (Exclamation ∷ Hash ∷ s) z h = refl
operator-equals (Exclamation ∷ Colon ∷ s) z h = refl
operator-equals (Exclamation ∷ Semicolon ∷ s) z h = refl
operator-equals (Exclamation ∷ Equals ∷ s) z h = (let k : false ≡ true = h.1.0 in cc)
operator-equals (Exclamation ∷ Plus ∷ s) z h = refl
operator-equals (Exclamation ∷ Question ∷ s) z h = refl
operator-equals (Exclamation ∷ Exclamation ∷ s) z h = refl
operator-equals (Exclamation ∷ Bar ∷ s) z h = refl
operator-equals (Exclamation ∷ Ampersand ∷ s) z h = refl
operator-equals (Exclamation ∷ NoSymbol ∷ s) z h = refl
operator-equals (Bar ∷ s) z h = refl
operator-equals (Ampersand ∷ s) z h = refl
operator-equals (NoSymbol ∷ s) z h = refl

-- the operator has one byte more than these symbols
operator-length : (s : List Symbol) (f : Flavor) → flavor_before_equals s ≡ Some f → operator_length f ≡ suc (length s)
operator-length [] f h = let e : Recursive ≡ f = cc in ap operator_length (sym e)
operator-length (Hash ∷ s) f h = cc
operator-length (Colon ∷ []) f h = let e : Simple ≡ f = cc in ap operator_length (sym e)
operator-length (Colon ∷ Hash ∷ s) f h = cc
operator-length (Colon ∷ Colon ∷ []) f h = let e : PosixSimple ≡ f = cc in ap operator_length (sym e)
operator-length (Colon ∷ Colon ∷ Hash ∷ s) f h = cc
operator-length (Colon ∷ Colon ∷ Colon ∷ []) f h = let e : Immediate ≡ f = cc in ap operator_length (sym e)
operator-length (Colon ∷ Colon ∷ Colon ∷ d ∷ s) f h = cc
operator-length (Colon ∷ Colon ∷ Semicolon ∷ s) f h = cc
operator-length (Colon ∷ Colon ∷ Equals ∷ s) f h = cc
operator-length (Colon ∷ Colon ∷ Plus ∷ s) f h = cc
operator-length (Colon ∷ Colon ∷ Question ∷ s) f h = cc
operator-length (Colon ∷ Colon ∷ Exclamation ∷ s) f h = cc
operator-length (Colon ∷ Colon ∷ Bar ∷ s) f h = cc
operator-length (Colon ∷ Colon ∷ Ampersand ∷ s) f h = cc
operator-length (Colon ∷ Colon ∷ NoSymbol ∷ s) f h = cc
operator-length (Colon ∷ Semicolon ∷ s) f h = cc
operator-length (Colon ∷ Equals ∷ s) f h = cc
operator-length (Colon ∷ Plus ∷ s) f h = cc
operator-length (Colon ∷ Question ∷ s) f h = cc
operator-length (Colon ∷ Exclamation ∷ s) f h = cc
operator-length (Colon ∷ Bar ∷ s) f h = cc
operator-length (Colon ∷ Ampersand ∷ s) f h = cc
operator-length (Colon ∷ NoSymbol ∷ s) f h = cc
operator-length (Semicolon ∷ s) f h = cc
operator-length (Equals ∷ s) f h = cc
operator-length (Plus ∷ []) f h = let e : Append ≡ f = cc in ap operator_length (sym e)
operator-length (Plus ∷ b ∷ s) f h = cc
operator-length (Question ∷ []) f h = let e : Conditional ≡ f = cc in ap operator_length (sym e)
operator-length (Question ∷ b ∷ s) f h = cc
operator-length (Exclamation ∷ []) f h = let e : Shell ≡ f = cc in ap operator_length (sym e)
operator-length (Exclamation ∷ b ∷ s) f h = cc
operator-length (Bar ∷ s) f h = cc
operator-length (Ampersand ∷ s) f h = cc
operator-length (NoSymbol ∷ s) f h = cc

-- ---- definitions

module _ {A : Type 0} (byte : A → ℕ) where
  no_equals-symbols : (us : List (List A)) → Each (is_no_equals byte) us → Each is_no_equals_symbol (map (symbol byte) us)
  no_equals-symbols [] h = tt
  no_equals-symbols (u ∷ us) h = (h.0, no_equals-symbols us h.1)

  first_equals : (n : List (List A)) (e : List A) (r : List (List A)) → Each (is_no_equals byte) n → is_equals byte e ≡ true → first_passes (is_equals byte) (n ++ e ∷ r) ≡ is_empty n
  first_equals [] e r h k = k
  first_equals (u ∷ n) e r h k = go (is_equals byte u) h.0
    where
      go : (c : Bool) → not c ≡ true → c ≡ false
      go true i = cc
      go false i = refl

  equals-ends : (e : List A) (r : List (List A)) → is_equals byte e ≡ true → ends_name byte (e ∷ r) ≡ true
  equals-ends e r k = rw (equals-symbol byte e k) (go (is_gap byte e))
    where
      go : (g : Bool) → (g || true) ≡ true
      go true = refl
      go false = refl

  same-ends : (u : List A) (n : List (List A)) (e : List A) (r : List (List A)) → Each (is_no_equals byte) n → is_equals byte e ≡ true
      → ends_name byte (u ∷ (n ++ e ∷ r)) ≡ ends_name_before_equals byte (u ∷ n)
  same-ends u n e r h k = ap (λ c. is_gap byte u || ends_name_by (symbol byte u) c) (first_equals n e r h k)

  -- a name before a `=` ends where it does by what stands before the `=`
  until-equals : (n : List (List A)) (e : List A) (r : List (List A)) → Each (is_no_equals byte) n → is_equals byte e ≡ true
      → until (ends_name byte) (n ++ e ∷ r) ≡ until (ends_name_before_equals byte) n
  until-equals [] e r h k = ap (λ c. cond c [] (e ∷ until (ends_name byte) r)) (equals-ends e r k)
  until-equals (u ∷ n) e r h k =
      ap (λ c. cond c [] (u ∷ until (ends_name byte) (n ++ e ∷ r))) (same-ends u n e r h.1 k)
      ∙ ap (λ z. cond (ends_name_before_equals byte (u ∷ n)) [] (u ∷ z)) (until-equals n e r h.1 k)

  from-equals : (n : List (List A)) (e : List A) (r : List (List A)) → Each (is_no_equals byte) n → is_equals byte e ≡ true
      → from (ends_name byte) (n ++ e ∷ r) ≡ from (ends_name_before_equals byte) n ++ e ∷ r
  from-equals [] e r h k = ap (λ c. cond c (e ∷ r) (from (ends_name byte) r)) (equals-ends e r k)
  from-equals (u ∷ n) e r h k =
      ap (λ c. cond c (u ∷ (n ++ e ∷ r)) (from (ends_name byte) (n ++ e ∷ r))) (same-ends u n e r h.1 k)
      ∙ (ap (λ z. cond (ends_name_before_equals byte (u ∷ n)) (u ∷ (n ++ e ∷ r)) z) (from-equals n e r h.1 k) ∙ go (ends_name_before_equals byte (u ∷ n)))
    where
      go : (c : Bool) → cond c (u ∷ (n ++ e ∷ r)) (from (ends_name_before_equals byte) n ++ e ∷ r) ≡ cond c (u ∷ n) (from (ends_name_before_equals byte) n) ++ e ∷ r
      go true = refl
      go false = refl

  Each-from : (p : List A → Bool) (q : List (List A) → Bool) (us : List (List A)) → Each p us → Each p (from q us)
  Each-from p q [] h = tt
  Each-from p q (u ∷ us) h = go (q (u ∷ us)) (Each-from p q us h.1)
    where
      go : (c : Bool) → Each p (from q us) → Each p (cond c (u ∷ us) (from q us))
      go true k = h
      go false k = k

  Each-after_leading : (p q : List A → Bool) (us : List (List A)) → Each p us → Each p (after_leading q us)
  Each-after_leading p q [] h = tt
  Each-after_leading p q (u ∷ us) h = go (q u) (Each-after_leading p q us h.1)
    where
      go : (c : Bool) → Each p (after_leading q us) → Each p (cond c (after_leading q us) (u ∷ us))
      go true k = k
      go false k = h

  -- a definition of its name and the operator's symbols before the `=`
  defined-equals : (b n g t : List (List A)) (e : List A) (r : List (List A)) (o : Option Flavor) → flavor_before_equals (map (symbol byte) t) ≡ o
      → defined_by byte o b n g (t ++ e ∷ r) ≡ with_value byte (front_by byte o b n (g ++ t)) e r
  defined-equals b n g t e r None h = refl
  defined-equals b [] g t e r (Some f) h = refl
  defined-equals b (u ∷ n) g t e r (Some f) h =
      let l : operator_length f ≡ length (t ++ e ∷ []) =
      operator-length (map (symbol byte) t) f h ∙ length-symbols t in
      let s : t ++ e ∷ r ≡ (t ++ e ∷ []) ++ r = sym (append_assoc t (e ∷ []) r) in
      let x : take (operator_length f) (t ++ e ∷ r) ≡ t ++ e ∷ [] = rw (l, s) (take-append_seam (t ++ e ∷ []) r) in
      let y : drop (operator_length f) (t ++ e ∷ r) ≡ r = rw (l, s) (drop-append_seam (t ++ e ∷ []) r) in
      let z : g ++ ((t ++ e ∷ []) ++ blanks byte r) ≡ (g ++ t) ++ (e ∷ blanks byte r) = simp append_assoc in
      rw (x, y, z) refl
    where
      length-symbols : (t : List (List A)) → suc (length (map (symbol byte) t)) ≡ length (t ++ e ∷ [])
      length-symbols [] = refl
      length-symbols (v ∷ t) = ap suc (length-symbols t)

  definition_of-equals : (b n : List (List A)) (e : List A) (r : List (List A)) → Each (is_no_equals byte) n → is_equals byte e ≡ true
      → definition_of byte b (n ++ e ∷ r) ≡ with_value byte (front_after_blanks byte b n) e r
  definition_of-equals b n e r h k =
      let F = from (ends_name_before_equals byte) n in
      let T = after_blanks byte F in
      let G = blanks byte F in
      let no_gap : is_gap byte e ≡ false = equals-no_gap byte e k in
      let f = from-equals n e r h k in
      let g : blanks byte (F ++ e ∷ r) ≡ G = leading-append (is_gap byte) F (e ∷ r) no_gap in
      let t : after_blanks byte (F ++ e ∷ r) ≡ T ++ e ∷ r = after_leading-append (is_gap byte) F (e ∷ r) no_gap in
      let each : Each (is_no_equals byte) T = Each-after_leading (is_no_equals byte) (is_gap byte) F (Each-from (is_no_equals byte) (ends_name_before_equals byte) n h) in
      let o : operator_at (map (symbol byte) (T ++ e ∷ r)) ≡ flavor_before_equals (map (symbol byte) T) =
      ap operator_at (map-append (symbol byte) T (e ∷ r) ∙ ap (λ s. map (symbol byte) T ++ s ∷ map (symbol byte) r) (equals-symbol byte e k))
      ∙ operator-equals (map (symbol byte) T) (map (symbol byte) r) (no_equals-symbols T each) in
      ap (λ z. defined_by byte (operator_at (map (symbol byte) (after_blanks byte z))) b (until (ends_name byte) (n ++ e ∷ r)) (blanks byte z) (after_blanks byte z)) f
      ∙ (ap (λ z. defined_by byte (operator_at (map (symbol byte) z)) b (until (ends_name byte) (n ++ e ∷ r)) (blanks byte (F ++ e ∷ r)) z) t
      ∙ (ap (λ z. defined_by byte (operator_at (map (symbol byte) (T ++ e ∷ r))) b (until (ends_name byte) (n ++ e ∷ r)) z (T ++ e ∷ r)) g
      ∙ (ap (λ z. defined_by byte z b (until (ends_name byte) (n ++ e ∷ r)) G (T ++ e ∷ r)) o
      ∙ (ap (λ z. defined_by byte (flavor_before_equals (map (symbol byte) T)) b z G (T ++ e ∷ r)) (until-equals n e r h k)
      ∙ (defined-equals b (until (ends_name_before_equals byte) n) G T e r (flavor_before_equals (map (symbol byte) T)) refl
      ∙ ap (λ z. with_value byte (front_by byte (flavor_before_equals (map (symbol byte) T)) b (until (ends_name_before_equals byte) n) z) e r) (leading-after_leading (is_gap byte) F))))))

  -- a definition whose first `=` is this one
  definition-equals : (b : List (List A)) (e : List A) (r : List (List A)) → Each (is_no_equals byte) b → is_equals byte e ≡ true
      → definition byte (b ++ e ∷ r) ≡ with_value byte (definition_front byte b) e r
  definition-equals b e r h k =
      let no_gap : is_gap byte e ≡ false = equals-no_gap byte e k in
      ap (λ z. definition_of byte z (after_blanks byte (b ++ e ∷ r))) (leading-append (is_gap byte) b (e ∷ r) no_gap)
      ∙ (ap (definition_of byte (blanks byte b)) (after_leading-append (is_gap byte) b (e ∷ r) no_gap)
      ∙ definition_of-equals (blanks byte b) (after_blanks byte b) e r (Each-after_leading (is_no_equals byte) (is_gap byte) b h) k)

  none-defined : (o : Option Flavor) (b n g r : List (List A)) → o ≡ None → defined_by byte o b n g r ≡ None
  none-defined o b n g r h = ap (λ z. defined_by byte z b n g r) h

  -- there is no definition without a `=`
  no_definition : (us : List (List A)) → Each (is_no_equals byte) us → definition byte us ≡ None
  no_definition us h =
      let N = after_blanks byte us in
      let F = from (ends_name byte) N in
      none-defined (operator_at (map (symbol byte) (after_blanks byte F))) (blanks byte us) (until (ends_name byte) N) (blanks byte F) (after_blanks byte F)
      (no_operator (map (symbol byte) (after_blanks byte F)) (no_equals-symbols (after_blanks byte F)
      (Each-after_leading (is_no_equals byte) (is_gap byte) F (Each-from (is_no_equals byte) (ends_name byte) N
      (Each-after_leading (is_no_equals byte) (is_gap byte) us h)))))

-- ---- a word with a `=` is no modifier

-- a text with a byte that another has not is not the same
pub not_same : (n : ℕ) (a c k : List ℕ) → list_any (λ b. n == b) k ≡ false → bytes_eq (a ++ n ∷ c) k ≡ false
not_same n [] c [] h = refl
not_same n [] c (y ∷ k) h = go (n == y) h
  where
    go : (t : Bool) → (t || list_any (λ b. n == b) k) ≡ false → (t && bytes_eq c k) ≡ false
    go true e = cc
    go false e = refl
not_same n (x ∷ a) c [] h = refl
not_same n (x ∷ a) c (y ∷ k) h = rw (not_same n a c k (right (n == y) h)) (go (x == y))
  where
    right : (t : Bool) → (t || list_any (λ b. n == b) k) ≡ false → list_any (λ b. n == b) k ≡ false
    right true e = cc
    right false e = e

    go : (t : Bool) → (t && false) ≡ false
    go true = refl
    go false = refl

module _ {A : Type 0} (byte : A → ℕ) where
  equals-text : (v : List (List A)) (e : List A) (w : List (List A)) → is_equals byte e ≡ true → (c : List ℕ) × (unit_text byte (v ++ e ∷ w) ≡ unit_text byte v ++ 61 ∷ c)
  equals-text v e w k =
      let s = symbol-unit byte e Equals (λ x. cc) (equals-symbol byte e k) in (
        unit_text byte w,
        ap (map byte) (concat-append v (e ∷ w)) ∙ (map-append byte (concat v) (e ++ concat w)
            ∙ (ap (λ z. unit_text byte v ++ map byte (z ++ concat w)) s.1 ∙ ap (λ z. unit_text byte v ++ z ∷ unit_text byte w) s.2)),
      )

  no_modifier : (v : List (List A)) (e : List A) (w : List (List A)) → is_equals byte e ≡ true → modifier_of byte (v ++ e ∷ w) ≡ None
  no_modifier v e w k =
      let t = equals-text v e w k in
      rw (
        t.1,
        not_same 61 (unit_text byte v) t.0 (codes "override") refl,
        not_same 61 (unit_text byte v) t.0 (codes "export") refl,
        not_same 61 (unit_text byte v) t.0 (codes "private") refl,
      ) refl

-- ---- words and gaps

-- the tokens before a unit that is no gap and the word that it begins, put together
abbrev glue : {A : Type 0} → List (Token A) → (e : List A) → (w : List (List A)) → List (Token A) → List (Token A)
glue [] e w ts = Word (e ∷ w) ∷ ts
glue (Gap u ∷ bs) e w ts = Gap u ∷ glue bs e w ts
glue (Word v ∷ []) e w ts = Word (v ++ e ∷ w) ∷ ts
glue (Word v ∷ b ∷ bs) e w ts = Word v ∷ glue (b ∷ bs) e w ts

module _ {A : Type 0} (byte : A → ℕ) where
  glue-before : (g : Bool) (u : List A) (bs : List (Token A)) (e : List A) (w : List (List A)) (ts : List (Token A))
      → before_tokens g u (glue bs e w ts) ≡ glue (before_tokens g u bs) e w ts
  glue-before true u bs e w ts = refl
  glue-before false u [] e w ts = refl
  glue-before false u (Gap x ∷ bs) e w ts = refl
  glue-before false u (Word v ∷ []) e w ts = refl
  glue-before false u (Word v ∷ b ∷ bs) e w ts = refl

  tokens-glue : (b : List (List A)) (e : List A) (r w : List (List A)) (ts : List (Token A)) → tokens byte (e ∷ r) ≡ Word (e ∷ w) ∷ ts → tokens byte (b ++ e ∷ r) ≡ glue (tokens byte b) e w ts
  tokens-glue [] e r w ts h = h
  tokens-glue (u ∷ b) e r w ts h = ap (before_tokens (is_gap byte u) u) (tokens-glue b e r w ts h) ∙ glue-before (is_gap byte u) u (tokens byte b) e w ts

  -- the word that a unit begins
  record BeginsWord (e : List A) (r : List (List A)) : Type 0 where
    pub word : List (List A)
    pub rest : List (Token A)
    pub cut : tokens byte (e ∷ r) ≡ Word (e ∷ word) ∷ rest
    pub whole : word ++ token_units rest ≡ r

  begins_word : (e : List A) (r : List (List A)) → is_gap byte e ≡ false → BeginsWord e r
  begins_word e r h = go (tokens byte r) refl
    where
      is : (ts : List (Token A)) → tokens byte r ≡ ts → tokens byte (e ∷ r) ≡ before_tokens false e ts
      is ts k = ap (λ g. before_tokens g e (tokens byte r)) h ∙ ap (before_tokens false e) k

      go : (ts : List (Token A)) → tokens byte r ≡ ts → BeginsWord e r
      go [] k = record { word = []; rest = []; cut = is [] k; whole = sym (ap token_units k) ∙ token_units-tokens byte r }
      go (Gap u ∷ ts) k = record { word = []; rest = Gap u ∷ ts; cut = is (Gap u ∷ ts) k; whole = sym (ap token_units k) ∙ token_units-tokens byte r }
      go (Word w ∷ ts) k = record { word = w; rest = ts; cut = is (Word w ∷ ts) k; whole = sym (ap token_units k) ∙ token_units-tokens byte r }

  glue-units : (bs : List (Token A)) (e : List A) (w : List (List A)) (ts : List (Token A)) → token_units (glue bs e w ts) ≡ token_units bs ++ e ∷ (w ++ token_units ts)
  glue-units [] e w ts = refl
  glue-units (Gap u ∷ bs) e w ts = ap (λ z. u ∷ z) (glue-units bs e w ts)
  glue-units (Word v ∷ []) e w ts = append_assoc v (e ∷ w) (token_units ts) ∙ ap (λ z. z ++ e ∷ (w ++ token_units ts)) (sym (append-nil v))
  glue-units (Word v ∷ b ∷ bs) e w ts = ap (λ z. v ++ z) (glue-units (b ∷ bs) e w ts) ∙ sym (append_assoc v (token_units (b ∷ bs)) (e ∷ (w ++ token_units ts)))

  units-with_value : (p : List (List A)) (o : Option (Front A)) (e : List A) (r : List (List A)) → after_units byte p (with_value byte o e r) ≡ with_value byte (front_after_units byte p o) e r
  units-with_value p None e r = refl
  units-with_value p (Some f) e r = refl

  modifier-with_value : (m : Modifier) (w : List (List A)) (o : Option (Front A)) (e : List A) (r : List (List A))
      → after_modifier byte m w (with_value byte o e r) ≡ with_value byte (front_after_modifier byte m w o) e r
  modifier-with_value m w None e r = refl
  modifier-with_value m w (Some f) e r = refl

  -- a definition, or else a modifier and an assignment
  abbrev or_modified : Option (Assignment A) → Option Modifier → List (List A) → Option (Assignment A) → Option (Assignment A)
  or_modified (Some a) o w rest = Some a
  or_modified None (Some m) w rest = after_modifier byte m w rest
  or_modified None None w rest = None

  assignment_of-word : (w : List (List A)) (ts : List (Token A)) → assignment_of byte (Word w ∷ ts) ≡ or_modified (definition byte (w ++ token_units ts)) (modifier_of byte w) w (assignment_of byte ts)
  assignment_of-word w ts = go (definition byte (w ++ token_units ts)) (modifier_of byte w)
    where
      go : (d : Option (Assignment A)) (m : Option Modifier)
          → elim d [ Some a ↦ Some a | None ↦ elim m [ Some m ↦ after_modifier byte m w (assignment_of byte ts) | None ↦ None ] ] ≡ or_modified d m w (assignment_of byte ts)
      go (Some a) m = refl
      go None (Some m) = refl
      go None None = refl

  -- a front, or else a modifier and a front
  abbrev pub or_front : Option (Front A) → Option Modifier → List (List A) → Option (Front A) → Option (Front A)
  or_front (Some f) o w rest = Some f
  or_front None (Some m) w rest = front_after_modifier byte m w rest
  or_front None None w rest = None

  -- the front of a word and what follows it
  pub front_of-word : (w : List (List A)) (ts : List (Token A)) → front_of byte (Word w ∷ ts) ≡ or_front (definition_front byte (w ++ token_units ts)) (modifier_of byte w) w (front_of byte ts)
  front_of-word w ts = go (definition_front byte (w ++ token_units ts)) (modifier_of byte w)
    where
      go : (d : Option (Front A)) (m : Option Modifier)
          → elim d [ Some f ↦ Some f | None ↦ elim m [ Some m ↦ front_after_modifier byte m w (front_of byte ts) | None ↦ None ] ] ≡ or_front d m w (front_of byte ts)
      go (Some f) m = refl
      go None (Some m) = refl
      go None None = refl

  modified-with_value : (d : Option (Front A)) (m : Option Modifier) (w : List (List A)) (o : Option (Front A)) (e : List A) (r : List (List A))
      → or_modified (with_value byte d e r) m w (with_value byte o e r) ≡ with_value byte (or_front d m w o) e r
  modified-with_value (Some f) m w o e r = refl
  modified-with_value None (Some m) w o e r = modifier-with_value m w o e r
  modified-with_value None None w o e r = refl

  no_front : (d : Option (Front A)) (m : Option Modifier) (w : List (List A)) → or_front d m w None ≡ d
  no_front (Some f) m w = refl
  no_front None (Some m) w = refl
  no_front None None w = refl

  not_modified : (d : Option (Assignment A)) (w : List (List A)) (rest : Option (Assignment A)) → or_modified d None w rest ≡ d
  not_modified (Some a) w rest = refl
  not_modified None w rest = refl

  -- the word with the first `=`
  last_word : (v : List (List A)) (e : List A) (w : List (List A)) (ts : List (Token A)) → Each (is_no_equals byte) v → is_equals byte e ≡ true
      → assignment_of byte (Word (v ++ e ∷ w) ∷ ts) ≡ with_value byte (definition_front byte v) e (w ++ token_units ts)
  last_word v e w ts h k =
      assignment_of-word (v ++ e ∷ w) ts
      ∙ (ap (λ m. or_modified (definition byte ((v ++ e ∷ w) ++ token_units ts)) m (v ++ e ∷ w) (assignment_of byte ts)) (no_modifier byte v e w k)
      ∙ (not_modified (definition byte ((v ++ e ∷ w) ++ token_units ts)) (v ++ e ∷ w) (assignment_of byte ts)
      ∙ (ap (definition byte) (append_assoc v (e ∷ w) (token_units ts)) ∙ definition-equals byte v e (w ++ token_units ts) h k)))

  no_equals-left : (a b : List (List A)) → Each (is_no_equals byte) (a ++ b) → Each (is_no_equals byte) a
  no_equals-left [] b h = tt
  no_equals-left (u ∷ a) b h = (h.0, no_equals-left a b h.1)

  assignment-glue : (bs : List (Token A)) (e : List A) (w : List (List A)) (ts : List (Token A)) → Each (is_no_equals byte) (token_units bs) → is_equals byte e ≡ true
      → assignment_of byte (glue bs e w ts) ≡ with_value byte (front_of byte bs) e (w ++ token_units ts)
  assignment-glue [] e w ts h k = last_word [] e w ts tt k
  assignment-glue (Gap u ∷ bs) e w ts h k =
      ap (after_units byte (u ∷ [])) (assignment-glue bs e w ts h.1 k) ∙ units-with_value (u ∷ []) (front_of byte bs) e (w ++ token_units ts)
  assignment-glue (Word v ∷ []) e w ts h k =
      last_word v e w ts (no_equals-left v [] h) k
      ∙ ap (λ z. with_value byte z e (w ++ token_units ts))
      (ap (definition_front byte) (sym (append-nil v)) ∙ (sym (no_front (definition_front byte (v ++ [])) (modifier_of byte v) v) ∙ sym (front_of-word v [])))
  assignment-glue (Word v ∷ b ∷ bs) e w ts h k =
      let R = w ++ token_units ts in
      let U = token_units (b ∷ bs) in
      let whole : v ++ token_units (glue (b ∷ bs) e w ts) ≡ (v ++ U) ++ e ∷ R = ap (λ z. v ++ z) (glue-units (b ∷ bs) e w ts) ∙ sym (append_assoc v U (e ∷ R)) in
      let d : definition byte (v ++ token_units (glue (b ∷ bs) e w ts)) ≡ with_value byte (definition_front byte (v ++ U)) e R = ap (definition byte) whole ∙ definition-equals byte (v ++ U) e R h k in
      let rest : assignment_of byte (glue (b ∷ bs) e w ts) ≡ with_value byte (front_of byte (b ∷ bs)) e R = assignment-glue (b ∷ bs) e w ts (Each-right (is_no_equals byte) v U h) k in
      assignment_of-word v (glue (b ∷ bs) e w ts)
      ∙ (ap (λ z. or_modified z (modifier_of byte v) v (assignment_of byte (glue (b ∷ bs) e w ts))) d
      ∙ (ap (λ z. or_modified (with_value byte (definition_front byte (v ++ U)) e R) (modifier_of byte v) v z) rest
      ∙ (modified-with_value (definition_front byte (v ++ U)) (modifier_of byte v) v (front_of byte (b ∷ bs)) e R
      ∙ ap (λ z. with_value byte z e R) (sym (front_of-word v (b ∷ bs))))))

  -- an assignment whose first `=` is this unit
  pub assignment-equals : (b : List (List A)) (e : List A) (r : List (List A)) → Each (is_no_equals byte) b → is_equals byte e ≡ true
      → assignment byte (b ++ e ∷ r) ≡ with_value byte (front_of byte (tokens byte b)) e r
  assignment-equals b e r h k =
      let s = begins_word e r (equals-no_gap byte e k) in
      ap (assignment_of byte) (tokens-glue b e r s.word s.rest s.cut)
      ∙ (assignment-glue (tokens byte b) e s.word s.rest (subst (Each (is_no_equals byte)) (sym (token_units-tokens byte b)) h) k
      ∙ ap (λ z. with_value byte (front_of byte (tokens byte b)) e z) s.whole)

  -- there is no assignment without a `=`
  nothing_after : (p : List (List A)) (o : Option (Assignment A)) → o ≡ None → after_units byte p o ≡ None
  nothing_after p o h = ap (after_units byte p) h

  nothing_modified : (m : Option Modifier) (w : List (List A)) → or_modified None m w None ≡ None
  nothing_modified None w = refl
  nothing_modified (Some m) w = refl

  no_assignment_of : (ts : List (Token A)) → Each (is_no_equals byte) (token_units ts) → assignment_of byte ts ≡ None
  no_assignment_of [] h = refl
  no_assignment_of (Gap u ∷ ts) h = nothing_after (u ∷ []) (assignment_of byte ts) (no_assignment_of ts h.1)
  no_assignment_of (Word w ∷ ts) h =
      assignment_of-word w ts
      ∙ (ap (λ z. or_modified z (modifier_of byte w) w (assignment_of byte ts)) (no_definition byte (w ++ token_units ts) h)
      ∙ (ap (λ z. or_modified None (modifier_of byte w) w z) (no_assignment_of ts (Each-right (is_no_equals byte) w (token_units ts) h)) ∙ nothing_modified (modifier_of byte w) w))

  pub no_assignment : (us : List (List A)) → Each (is_no_equals byte) us → assignment byte us ≡ None
  no_assignment us h = no_assignment_of (tokens byte us) (subst (Each (is_no_equals byte)) (sym (token_units-tokens byte us)) h)

  -- the assignments by their first `=` are the assignments
  pub assignment-at_equals : (us : List (List A)) → assignment byte us ≡ assignment_at_equals byte us
  assignment-at_equals us =
      go (leading (is_no_equals byte) us) (after_leading (is_no_equals byte) us) (leading-after_leading (is_no_equals byte) us) (leading-each (is_no_equals byte) us) (after_leading-first_fails (is_no_equals byte) us)
    where
      is : (c : Bool) → not c ≡ false → c ≡ true
      is true h = refl
      is false h = cc

      go : (b r : List (List A)) → b ++ r ≡ us → Each (is_no_equals byte) b → FirstFails (is_no_equals byte) r → assignment byte us ≡ assignment_from byte b r
      go b [] h n f = ap (assignment byte) (sym h ∙ append-nil b) ∙ no_assignment b n
      go b (e ∷ r) h n f = ap (assignment byte) (sym h) ∙ assignment-equals b e r n (is (is_equals byte e) f)
