-- The parts of a header's line fit: they are read again from their units, even if some parts are replaced.
use Rattle.std.proofs.Common.{◌≡◌, refl, sym, ap, ◌∙◌, subst, ℕ, List, [], ◌∷◌, ◌++◌, map, Bool, true, false, not, ◌&&◌, ◌||◌, cond, take, drop}
use Rattle.std.proofs.lemmas.List.{take-append-drop, take-map, drop-map}
use Rattle.std.proofs.lemmas.Bool.{not-false}
use Rattle.mk_lines.specs.Lists.{leading, after_leading, Each, FirstFails}
use Rattle.mk_lines.proofs.on_lists.ListLemmas.{leading-after_leading, leading-each, after_leading-first_fails}
use Rattle.mk_lines.proofs.on_lists.BoolLemmas.{or-left_false, or-right_false}
use Rattle.mk_class.specs.ListTests.{is_empty, until, from, first_passes, last_passes}
use Rattle.mk_class.specs.Symbols.{Symbol, symbol, is_colon, is_bar, is_ampersand, is_colon_symbol, is_ampersand_symbol}
use Rattle.mk_class.specs.Symbols.Symbol.{Hash, Colon, Semicolon, Equals, Plus, Question, Exclamation, Bar, Ampersand, NoSymbol}
use Rattle.mk_class.specs.CutTexts.{head, after_head, is_in_head}
use Rattle.mk_class.specs.Separators.{Separated, separated, separator_at, separator_length, begins_separator, has_colon, is_single_colon, separated_units}
use Rattle.mk_class.specs.Headers.{Header, header, header_parts, with_prerequisites, is_no_bar, is_no_colon, has_unreadable, has_colon_after_other, has_third_separator, has_bad_bar, has_second_bar, has_bad_pattern, is_rough}
use Rattle.mk_class.proofs.on_headers.HeadersWhole.{separated-whole}
use Rattle.mk_class.specs.HeaderFits.{separator_symbols, FitsPattern, FitsBar, FitsHeader}

-- ---- symbols

-- whether some symbols begin with a separator
abbrev begins_with_separator : List Symbol → Bool
begins_with_separator s = first_passes is_colon_symbol s || (first_passes is_ampersand_symbol s && first_passes is_colon_symbol (drop 1 s))

-- the symbols of the separator that stands there; if the separator is `:`, what follows it begins with no separator
record SymbolsFit (s : List Symbol) : Type 0 where
  taken : take (separator_length (separator_at s)) s ≡ separator_symbols (separator_at s)
  apart : is_single_colon (separator_at s) ≡ true → first_passes is_colon_symbol (drop (separator_length (separator_at s)) s) ≡ false
  colon : first_passes is_colon_symbol (take (separator_length (separator_at s)) s) ≡ first_passes is_colon_symbol s

symbols-fit : (s : List Symbol) → begins_with_separator s ≡ true → SymbolsFit s
symbols-fit [] h = cc
symbols-fit (Colon ∷ []) h = record { taken = refl; apart = λ e. refl; colon = refl }
symbols-fit (Colon ∷ Hash ∷ s) h = record { taken = refl; apart = λ e. refl; colon = refl }
symbols-fit (Colon ∷ Colon ∷ s) h = record { taken = refl; apart = λ e. cc; colon = refl }
symbols-fit (Colon ∷ Semicolon ∷ s) h = record { taken = refl; apart = λ e. refl; colon = refl }
symbols-fit (Colon ∷ Equals ∷ s) h = record { taken = refl; apart = λ e. refl; colon = refl }
symbols-fit (Colon ∷ Plus ∷ s) h = record { taken = refl; apart = λ e. refl; colon = refl }
symbols-fit (Colon ∷ Question ∷ s) h = record { taken = refl; apart = λ e. refl; colon = refl }
symbols-fit (Colon ∷ Exclamation ∷ s) h = record { taken = refl; apart = λ e. refl; colon = refl }
symbols-fit (Colon ∷ Bar ∷ s) h = record { taken = refl; apart = λ e. refl; colon = refl }
symbols-fit (Colon ∷ Ampersand ∷ s) h = record { taken = refl; apart = λ e. refl; colon = refl }
symbols-fit (Colon ∷ NoSymbol ∷ s) h = record { taken = refl; apart = λ e. refl; colon = refl }
symbols-fit (Ampersand ∷ []) h = cc
symbols-fit (Ampersand ∷ Hash ∷ s) h = cc
symbols-fit (Ampersand ∷ Semicolon ∷ s) h = cc
symbols-fit (Ampersand ∷ Equals ∷ s) h = cc
symbols-fit (Ampersand ∷ Plus ∷ s) h = cc
symbols-fit (Ampersand ∷ Question ∷ s) h = cc
symbols-fit (Ampersand ∷ Exclamation ∷ s) h = cc
symbols-fit (Ampersand ∷ Bar ∷ s) h = cc
symbols-fit (Ampersand ∷ Ampersand ∷ s) h = cc
symbols-fit (Ampersand ∷ NoSymbol ∷ s) h = cc
symbols-fit (Ampersand ∷ Colon ∷ []) h = record { taken = refl; apart = λ e. cc; colon = refl }
symbols-fit (Ampersand ∷ Colon ∷ Hash ∷ s) h = record { taken = refl; apart = λ e. cc; colon = refl }
symbols-fit (Ampersand ∷ Colon ∷ Colon ∷ s) h = record { taken = refl; apart = λ e. cc; colon = refl }
symbols-fit (Ampersand ∷ Colon ∷ Semicolon ∷ s) h = record { taken = refl; apart = λ e. cc; colon = refl }
symbols-fit (Ampersand ∷ Colon ∷ Equals ∷ s) h = record { taken = refl; apart = λ e. cc; colon = refl }
symbols-fit (Ampersand ∷ Colon ∷ Plus ∷ s) h = record { taken = refl; apart = λ e. cc; colon = refl }
symbols-fit (Ampersand ∷ Colon ∷ Question ∷ s) h = record { taken = refl; apart = λ e. cc; colon = refl }
symbols-fit (Ampersand ∷ Colon ∷ Exclamation ∷ s) h = record { taken = refl; apart = λ e. cc; colon = refl }
symbols-fit (Ampersand ∷ Colon ∷ Bar ∷ s) h = record { taken = refl; apart = λ e. cc; colon = refl }
symbols-fit (Ampersand ∷ Colon ∷ Ampersand ∷ s) h = record { taken = refl; apart = λ e. cc; colon = refl }
symbols-fit (Ampersand ∷ Colon ∷ NoSymbol ∷ s) h = record { taken = refl; apart = λ e. cc; colon = refl }
symbols-fit (Hash ∷ s) h = cc
symbols-fit (Semicolon ∷ s) h = cc
symbols-fit (Equals ∷ s) h = cc
symbols-fit (Plus ∷ s) h = cc
symbols-fit (Question ∷ s) h = cc
symbols-fit (Exclamation ∷ s) h = cc
symbols-fit (Bar ∷ s) h = cc
symbols-fit (NoSymbol ∷ s) h = cc

module _ {A : Type 0} (byte : A → ℕ) where
  first-symbols : (us : List (List A)) → first_passes is_colon_symbol (map (symbol byte) us) ≡ first_passes (is_colon byte) us
  first-symbols [] = refl
  first-symbols (u ∷ us) = refl

  first-drop : (n : ℕ) (us : List (List A)) → first_passes is_colon_symbol (drop n (map (symbol byte) us)) ≡ first_passes (is_colon byte) (drop n us)
  first-drop n us = ap (first_passes is_colon_symbol) (drop-map (symbol byte) n us) ∙ first-symbols (drop n us)

  begins-symbols : (us : List (List A)) → begins_with_separator (map (symbol byte) us) ≡ begins_separator byte us
  begins-symbols [] = refl
  begins-symbols (u ∷ []) = refl
  begins-symbols (u ∷ v ∷ us) = refl

  -- ---- the targets

  -- there is no `:` before a separator
  until-no_colon : (us : List (List A)) → Each (is_no_colon byte) (until (begins_separator byte) us)
  until-no_colon [] = tt
  until-no_colon (u ∷ us) = go (begins_separator byte (u ∷ us)) refl (until-no_colon us)
    where
      go : (c : Bool) → begins_separator byte (u ∷ us) ≡ c → Each (is_no_colon byte) (until (begins_separator byte) us) → Each (is_no_colon byte) (cond c [] (u ∷ until (begins_separator byte) us))
      go true e k = tt
      go false e k = (ap not (or-left_false (is_colon byte u) (is_ampersand byte u && first_passes (is_colon byte) (drop 1 (u ∷ us))) e), k)

  -- what stands before a separator does not end in a `&` that belongs to it
  until-apart : (us : List (List A)) → (last_passes (is_ampersand byte) (until (begins_separator byte) us) && first_passes (is_colon byte) (from (begins_separator byte) us)) ≡ false
  until-apart [] = refl
  until-apart (u ∷ us) = go (begins_separator byte (u ∷ us)) refl (until-apart us)
    where
      alone : (xs : List (List A)) → xs ≡ us → until (begins_separator byte) xs ≡ [] → first_passes (is_colon byte) (from (begins_separator byte) xs) ≡ first_passes (is_colon byte) xs
      alone [] i e = refl
      alone (x ∷ xs) i e = at (begins_separator byte (x ∷ xs)) e
        where
          at : (c : Bool) → cond c [] (x ∷ until (begins_separator byte) xs) ≡ [] → first_passes (is_colon byte) (cond c (x ∷ xs) (from (begins_separator byte) xs)) ≡ first_passes (is_colon byte) (x ∷ xs)
          at true k = refl
          at false k = cc

      more : (t : List (List A)) → until (begins_separator byte) us ≡ t → begins_separator byte (u ∷ us) ≡ false
          → (last_passes (is_ampersand byte) (until (begins_separator byte) us) && first_passes (is_colon byte) (from (begins_separator byte) us)) ≡ false
          → (last_passes (is_ampersand byte) (u ∷ t) && first_passes (is_colon byte) (from (begins_separator byte) us)) ≡ false
      more [] i e k =
          ap (λ z. is_ampersand byte u && z) (alone us refl i) ∙ or-right_false (is_colon byte u) (is_ampersand byte u && first_passes (is_colon byte) us) e
      more (x ∷ t) i e k = ap (λ z. last_passes (is_ampersand byte) z && first_passes (is_colon byte) (from (begins_separator byte) us)) (sym i) ∙ k

      go : (c : Bool) → begins_separator byte (u ∷ us) ≡ c
          → (last_passes (is_ampersand byte) (until (begins_separator byte) us) && first_passes (is_colon byte) (from (begins_separator byte) us)) ≡ false
          → (last_passes (is_ampersand byte) (cond c [] (u ∷ until (begins_separator byte) us)) && first_passes (is_colon byte) (cond c (u ∷ us) (from (begins_separator byte) us))) ≡ false
      go true e k = refl
      go false e k = more (until (begins_separator byte) us) refl e k

  -- if there is a `:`, there is a separator
  from-begins : (us : List (List A)) → has_colon byte us ≡ true → begins_separator byte (from (begins_separator byte) us) ≡ true
  from-begins [] h = cc
  from-begins (u ∷ us) h = go (begins_separator byte (u ∷ us)) refl (λ k. from-begins us k)
    where
      rest : (b : Bool) → b ≡ false → (b || has_colon byte us) ≡ true → has_colon byte us ≡ true
      rest true e k = cc
      rest false e k = k

      go : (c : Bool) → begins_separator byte (u ∷ us) ≡ c → (has_colon byte us ≡ true → begins_separator byte (from (begins_separator byte) us) ≡ true)
          → begins_separator byte (cond c (u ∷ us) (from (begins_separator byte) us)) ≡ true
      go true e k = e
      go false e k = k (rest (is_colon byte u) (or-left_false (is_colon byte u) (is_ampersand byte u && first_passes (is_colon byte) (drop 1 (u ∷ us))) e) h)

  -- ---- what follows the separator

  -- a text with a `:`, from there on
  record FromColon (us : List (List A)) : Type 0 where
    colon : List A
    rest : List (List A)
    is : after_leading (is_no_colon byte) us ≡ colon ∷ rest
    passes : is_colon byte colon ≡ true

  from-colon : (us : List (List A)) → has_colon byte us ≡ true → FromColon us
  from-colon us h = go (after_leading (is_no_colon byte) us) refl (after_leading-first_fails (is_no_colon byte) us)
    where
      none : (xs : List (List A)) → after_leading (is_no_colon byte) xs ≡ [] → has_colon byte xs ≡ false
      none [] e = refl
      none (x ∷ xs) e = at (is_colon byte x) e (λ k. none xs k)
        where
          at : (c : Bool) → cond (not c) (after_leading (is_no_colon byte) xs) (x ∷ xs) ≡ [] → (after_leading (is_no_colon byte) xs ≡ [] → has_colon byte xs ≡ false) → (c || has_colon byte xs) ≡ false
          at true k m = cc
          at false k m = m k

      go : (r : List (List A)) → after_leading (is_no_colon byte) us ≡ r → FirstFails (is_no_colon byte) r → FromColon us
      go [] e f = absurd (let k : false ≡ true = sym (none us e) ∙ h in cc)
      go (c ∷ r) e f = record { colon = c; rest = r; is = e; passes = not-false (is_colon byte c) f }

  no_colon-each : (us : List (List A)) → has_colon byte us ≡ false → Each (is_no_colon byte) us
  no_colon-each [] h = tt
  no_colon-each (u ∷ us) h = (ap not (or-left_false (is_colon byte u) (has_colon byte us) h), no_colon-each us (or-right_false (is_colon byte u) (has_colon byte us) h))

  bar-fits : (r : List (List A)) → FirstFails (is_no_bar byte) r → FitsBar byte (take 1 r) (drop 1 r)
  bar-fits [] h = refl
  bar-fits (b ∷ r) h = not-false (is_bar byte b) h

  prerequisites-are : (us : List (List A)) → leading (is_no_bar byte) us ++ (take 1 (after_leading (is_no_bar byte) us) ++ drop 1 (after_leading (is_no_bar byte) us)) ≡ us
  prerequisites-are us = ap (λ z. leading (is_no_bar byte) us ++ z) (take-append-drop 1 (after_leading (is_no_bar byte) us)) ∙ leading-after_leading (is_no_bar byte) us

  -- the parts of a line fit if the parts before the prerequisites fit
  fits-prerequisites : (s : Separated A) (p c us t : List (List A)) → Each (is_in_head byte) (s.targets ++ (s.colons ++ (p ++ (c ++ us)))) → FirstFails (is_in_head byte) t
      → Each (is_no_colon byte) s.targets → (last_passes (is_ampersand byte) s.targets && first_passes (is_colon byte) s.colons) ≡ false
      → map (symbol byte) s.colons ≡ separator_symbols s.separator → first_passes (is_colon byte) (p ++ (c ++ us)) ≡ false → FitsPattern byte p c us
      → FitsHeader byte (with_prerequisites byte s p c us t)
  fits-prerequisites s p c us t i t' n a k r f =
      let e = sym (prerequisites-are us) in
      record {
        in_head = subst (λ z. Each (is_in_head byte) (s.targets ++ (s.colons ++ (p ++ (c ++ z))))) e i;
        tail_ends = t';
        no_colon = n;
        targets_apart = a;
        colons_are = k;
        rest_apart = subst (λ z. first_passes (is_colon byte) (p ++ (c ++ z)) ≡ false) e r;
        pattern_fits = subst (FitsPattern byte p c) e f;
        no_bar = leading-each (is_no_bar byte) us;
        bar_fits = bar-fits (after_leading (is_no_bar byte) us) (after_leading-first_fails (is_no_bar byte) us);
      }

  -- what is not Rough has no `:` after a separator other than `:`
  not_rough-separator : (us : List (List A)) (h : Header A) → is_rough byte us h ≡ false → has_colon_after_other byte h ≡ false
  not_rough-separator us h r =
      or-left_false (has_colon_after_other byte h) (has_third_separator byte h || (has_bad_bar byte h || (has_second_bar byte h || has_bad_pattern byte h)))
      (or-right_false (has_unreadable byte us) (has_colon_after_other byte h || (has_third_separator byte h || (has_bad_bar byte h || (has_second_bar byte h || has_bad_pattern byte h)))) r)

  -- ---- the line

  fits-separated : (us : List (List A)) (s : Separated A) (t : List (List A)) → separated_units s ≡ us → Each (is_in_head byte) us → FirstFails (is_in_head byte) t
      → Each (is_no_colon byte) s.targets → (last_passes (is_ampersand byte) s.targets && first_passes (is_colon byte) s.colons) ≡ false
      → map (symbol byte) s.colons ≡ separator_symbols s.separator → (is_single_colon s.separator ≡ true → first_passes (is_colon byte) s.rest ≡ false)
      → is_rough byte us (header_parts byte s t) ≡ false → FitsHeader byte (header_parts byte s t)
  fits-separated us s t w i t' n a k r q = go (has_colon byte s.rest) refl q
    where
      in_head : (xs : List (List A)) → xs ≡ s.rest → Each (is_in_head byte) (s.targets ++ (s.colons ++ xs))
      in_head xs e = subst (Each (is_in_head byte)) (sym w ∙ ap (λ z. s.targets ++ (s.colons ++ z)) (sym e)) i

      -- a separator that is not `:` leaves no `:`
      single : (b : Bool) → is_single_colon s.separator ≡ b → (x : List (List A)) (c : List A) (cs : List (List A)) → x ≡ c ∷ cs
          → has_colon_after_other byte (with_prerequisites byte s (leading (is_no_colon byte) s.rest) (take 1 x) (drop 1 x) t) ≡ false → first_passes (is_colon byte) s.rest ≡ false
      single true e x c cs m h = r e
      single false e x c cs m h =
          let g : (not (is_empty (take 1 x)) && not (is_single_colon s.separator)) ≡ true = rw (m, e) refl in
          let f : true ≡ false = sym g ∙ h in
          absurd (cc)

      go : (b : Bool) → has_colon byte s.rest ≡ b
          → is_rough byte us (cond b (with_prerequisites byte s (leading (is_no_colon byte) s.rest) (take 1 (after_leading (is_no_colon byte) s.rest)) (drop 1 (after_leading (is_no_colon byte) s.rest)) t) (with_prerequisites byte s [] [] s.rest t)) ≡ false
          → FitsHeader byte (cond b (with_prerequisites byte s (leading (is_no_colon byte) s.rest) (take 1 (after_leading (is_no_colon byte) s.rest)) (drop 1 (after_leading (is_no_colon byte) s.rest)) t) (with_prerequisites byte s [] [] s.rest t))
      go true e h =
          let P = leading (is_no_colon byte) s.rest in
          let X = after_leading (is_no_colon byte) s.rest in
          let f = from-colon s.rest e in
          let joined : P ++ (take 1 X ++ drop 1 X) ≡ s.rest = ap (λ z. P ++ z) (take-append-drop 1 X) ∙ leading-after_leading (is_no_colon byte) s.rest in
          let no_first : first_passes (is_colon byte) s.rest ≡ false = single (is_single_colon s.separator) refl X f.colon f.rest f.is (not_rough-separator us (with_prerequisites byte s P (take 1 X) (drop 1 X) t) h) in
          let fits : FitsPattern byte P (take 1 X) (drop 1 X) = subst (λ z. FitsPattern byte P (take 1 z) (drop 1 z)) (sym f.is) (f.passes, leading-each (is_no_colon byte) s.rest) in
          fits-prerequisites s P (take 1 X) (drop 1 X) t (in_head (P ++ (take 1 X ++ drop 1 X)) joined) t' n a k (ap (first_passes (is_colon byte)) joined ∙ no_first) fits
      go false e h = fits-prerequisites s [] [] s.rest t (in_head s.rest refl) t' n a k (first-none s.rest e) (refl, no_colon-each s.rest e)
        where
          first-none : (xs : List (List A)) → has_colon byte xs ≡ false → first_passes (is_colon byte) xs ≡ false
          first-none [] e = refl
          first-none (x ∷ xs) e = or-left_false (is_colon byte x) (has_colon byte xs) e

  -- the parts of a header's line fit
  pub header-fits : (us : List (List A)) → has_colon byte (head byte us) ≡ true → is_rough byte (head byte us) (header byte us) ≡ false → FitsHeader byte (header byte us)
  header-fits us h q =
      let H = head byte us in
      let s = separated byte H in
      let F = from (begins_separator byte) H in
      let f = symbols-fit (map (symbol byte) F) (begins-symbols F ∙ from-begins H h) in
      let n = separator_length s.separator in
      let first : first_passes (is_colon byte) s.colons ≡ first_passes (is_colon byte) F =
      sym (first-symbols s.colons) ∙ (ap (first_passes is_colon_symbol) (sym (take-map (symbol byte) n F)) ∙ (f.colon ∙ first-symbols F)) in
      fits-separated H s (after_head byte us) (separated-whole byte H) (leading-each (is_in_head byte) us) (after_leading-first_fails (is_in_head byte) us)
      (until-no_colon H) (ap (λ z. last_passes (is_ampersand byte) s.targets && z) first ∙ until-apart H)
      (sym (take-map (symbol byte) n F) ∙ f.taken) (λ e. sym (first-drop n F) ∙ f.apart e) q
