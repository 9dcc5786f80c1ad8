-- Headers made of parts: what parts fit, that the parts of a header's line do, and that parts which fit are read again from
-- their units.
use Rattle.std.proofs.Common.{◌≡◌, refl, sym, ap, ◌∙◌, ℕ, List, [], ◌∷◌, ◌++◌, map, Bool, true, false, not, ◌&&◌, ◌||◌, cond, append_assoc, take, drop}
use Rattle.std.proofs.Math.Bool.{and-false}
use Rattle.std.proofs.lemmas.Bool.{not-true}
use Rattle.mk_lines.specs.Lists.{leading, after_leading, Each}
use Rattle.mk_lines.proofs.on_lists.ListLemmas.{leading-append_all, after_leading-append_all}
use Rattle.mk_class.specs.ListTests.{until, from, first_passes, last_passes}
use Rattle.mk_class.specs.Symbols.{Symbol, symbol, is_colon, is_ampersand, is_colon_symbol}
use Rattle.mk_class.specs.Symbols.Symbol.{Hash, Colon, Semicolon, Equals, Plus, Question, Exclamation, Bar, Ampersand, NoSymbol}
use Rattle.mk_class.specs.CutTexts.{head, after_head, is_in_head}
use Rattle.mk_class.specs.Separators.{Separated, separated, separator_at, separator_length, begins_separator, has_colon}
use Rattle.mk_class.specs.Headers.{Header, header, header_parts, with_prerequisites, is_no_bar, is_no_colon, header_units}
use Rattle.mk_class.specs.HeaderFits.{separator_symbols, after_separator, head_units, FitsPattern, FitsBar, FitsHeader}
use Rattle.mk_class.specs.declared.rule.Separator.{Separator}
use Rattle.mk_class.specs.declared.rule.Separator.TheVariants.{SingleColon, DoubleColon, GroupedColon, GroupedDoubleColon}

single-at : (x : Symbol) (s : List Symbol) → is_colon_symbol x ≡ false → separator_at (Colon ∷ x ∷ s) ≡ SingleColon
single-at Hash s h = refl
single-at Colon s h = cc
single-at Semicolon s h = refl
single-at Equals s h = refl
single-at Plus s h = refl
single-at Question s h = refl
single-at Exclamation s h = refl
single-at Bar s h = refl
single-at Ampersand s h = refl
single-at NoSymbol s h = refl

grouped-at : (x : Symbol) (s : List Symbol) → is_colon_symbol x ≡ false → separator_at (Ampersand ∷ Colon ∷ x ∷ s) ≡ GroupedColon
grouped-at Hash s h = refl
grouped-at Colon s h = cc
grouped-at Semicolon s h = refl
grouped-at Equals s h = refl
grouped-at Plus s h = refl
grouped-at Question s h = refl
grouped-at Exclamation s h = refl
grouped-at Bar s h = refl
grouped-at Ampersand s h = refl
grouped-at NoSymbol s h = refl

module _ {A : Type 0} (byte : A → ℕ) where
  -- ---- the separator

  -- a separator before what does not begin with a `:`
  record ReadsSeparator (s : Separator) (C R : List (List A)) : Type 0 where
    same : separator_at (map (symbol byte) (C ++ R)) ≡ s
    taken : take (separator_length s) (C ++ R) ≡ C
    left : drop (separator_length s) (C ++ R) ≡ R
    begins : begins_separator byte (C ++ R) ≡ true
    colon : first_passes (is_colon byte) (C ++ R) ≡ first_passes (is_colon byte) C

  single-rest : (R : List (List A)) → first_passes (is_colon byte) R ≡ false → separator_at (Colon ∷ map (symbol byte) R) ≡ SingleColon
  single-rest [] h = refl
  single-rest (v ∷ R) h = single-at (symbol byte v) (map (symbol byte) R) h

  grouped-rest : (R : List (List A)) → first_passes (is_colon byte) R ≡ false → separator_at (Ampersand ∷ Colon ∷ map (symbol byte) R) ≡ GroupedColon
  grouped-rest [] h = refl
  grouped-rest (v ∷ R) h = grouped-at (symbol byte v) (map (symbol byte) R) h

  reads-separator : (s : Separator) (C R : List (List A)) → map (symbol byte) C ≡ separator_symbols s → first_passes (is_colon byte) R ≡ false → ReadsSeparator s C R
  reads-separator SingleColon [] R h k = cc
  reads-separator SingleColon (u ∷ []) R h k =
      let e : symbol byte u ≡ Colon = cc in
      record { same = ap (λ z. separator_at (z ∷ map (symbol byte) R)) e ∙ single-rest R k; taken = refl; left = refl; begins = rw e refl; colon = refl }
  reads-separator SingleColon (u ∷ v ∷ C) R h k = cc
  reads-separator DoubleColon [] R h k = cc
  reads-separator DoubleColon (u ∷ []) R h k = cc
  reads-separator DoubleColon (u ∷ v ∷ []) R h k =
      let e : symbol byte u ≡ Colon = cc in
      let f : symbol byte v ≡ Colon = cc in
      record { same = rw (e, f) refl; taken = refl; left = refl; begins = rw e refl; colon = refl }
  reads-separator DoubleColon (u ∷ v ∷ w ∷ C) R h k = cc
  reads-separator GroupedColon [] R h k = cc
  reads-separator GroupedColon (u ∷ []) R h k = cc
  reads-separator GroupedColon (u ∷ v ∷ []) R h k =
      let e : symbol byte u ≡ Ampersand = cc in
      let f : symbol byte v ≡ Colon = cc in
      record { same = ap (λ z. separator_at (z ∷ symbol byte v ∷ map (symbol byte) R)) e ∙ (ap (λ z. separator_at (Ampersand ∷ z ∷ map (symbol byte) R)) f ∙ grouped-rest R k); taken = refl; left = refl; begins = rw (e, f) refl; colon = refl }
  reads-separator GroupedColon (u ∷ v ∷ w ∷ C) R h k = cc
  reads-separator GroupedDoubleColon [] R h k = cc
  reads-separator GroupedDoubleColon (u ∷ []) R h k = cc
  reads-separator GroupedDoubleColon (u ∷ v ∷ []) R h k = cc
  reads-separator GroupedDoubleColon (u ∷ v ∷ w ∷ []) R h k =
      let e : symbol byte u ≡ Ampersand = cc in
      let f : symbol byte v ≡ Colon = cc in
      let g : symbol byte w ≡ Colon = cc in
      record { same = rw (e, f, g) refl; taken = refl; left = refl; begins = rw (e, f) refl; colon = refl }
  reads-separator GroupedDoubleColon (u ∷ v ∷ w ∷ x ∷ C) R h k = cc

  -- no separator begins at a target
  no_separator : (u : List A) (X : List (List A)) → is_colon byte u ≡ false → (is_ampersand byte u && first_passes (is_colon byte) X) ≡ false → begins_separator byte (u ∷ X) ≡ false
  no_separator u X h k = rw (h, k) refl

  until-separator : (T X : List (List A)) → Each (is_no_colon byte) T → (last_passes (is_ampersand byte) T && first_passes (is_colon byte) X) ≡ false → begins_separator byte X ≡ true
      → until (begins_separator byte) (T ++ X) ≡ T
  until-separator [] [] n a b = refl
  until-separator [] (x ∷ X) n a b = ap (λ c. cond c [] (x ∷ until (begins_separator byte) X)) b
  until-separator (u ∷ []) X n a b =
      ap (λ c. cond c [] (u ∷ until (begins_separator byte) X)) (no_separator u X (not-true (is_colon byte u) n.0) a) ∙ ap (λ z. u ∷ z) (until-separator [] X tt refl b)
  until-separator (u ∷ v ∷ T) X n a b =
      ap (λ c. cond c [] (u ∷ until (begins_separator byte) (v ∷ (T ++ X))))
      (no_separator u (v ∷ (T ++ X)) (not-true (is_colon byte u) n.0) (ap (λ z. is_ampersand byte u && z) (not-true (is_colon byte v) n.1.0) ∙ and-false (is_ampersand byte u)))
      ∙ ap (λ z. u ∷ z) (until-separator (v ∷ T) X n.1 a b)

  from-separator : (T X : List (List A)) → Each (is_no_colon byte) T → (last_passes (is_ampersand byte) T && first_passes (is_colon byte) X) ≡ false → begins_separator byte X ≡ true
      → from (begins_separator byte) (T ++ X) ≡ X
  from-separator [] [] n a b = refl
  from-separator [] (x ∷ X) n a b = ap (λ c. cond c (x ∷ X) (from (begins_separator byte) X)) b
  from-separator (u ∷ []) X n a b =
      ap (λ c. cond c (u ∷ X) (from (begins_separator byte) X)) (no_separator u X (not-true (is_colon byte u) n.0) a) ∙ from-separator [] X tt refl b
  from-separator (u ∷ v ∷ T) X n a b =
      ap (λ c. cond c (u ∷ v ∷ (T ++ X)) (from (begins_separator byte) (v ∷ (T ++ X))))
      (no_separator u (v ∷ (T ++ X)) (not-true (is_colon byte u) n.0) (ap (λ z. is_ampersand byte u && z) (not-true (is_colon byte v) n.1.0) ∙ and-false (is_ampersand byte u)))
      ∙ from-separator (v ∷ T) X n.1 a b

  -- the targets, the separator and what follows are read again
  pub separated-again : (s : Separator) (T C R : List (List A)) → Each (is_no_colon byte) T → (last_passes (is_ampersand byte) T && first_passes (is_colon byte) C) ≡ false
      → map (symbol byte) C ≡ separator_symbols s → first_passes (is_colon byte) R ≡ false
      → separated byte (T ++ (C ++ R)) ≡ record { separator = s; targets = T; colons = C; rest = R }
  separated-again s T C R n a h k =
      let q = reads-separator s C R h k in
      let apart : (last_passes (is_ampersand byte) T && first_passes (is_colon byte) (C ++ R)) ≡ false = ap (λ z. last_passes (is_ampersand byte) T && z) q.colon ∙ a in
      rw (until-separator T (C ++ R) n apart q.begins, from-separator T (C ++ R) n apart q.begins, q.same, q.taken, q.left) refl

  -- ---- the prerequisites

  no_colons : (us : List (List A)) → Each (is_no_colon byte) us → has_colon byte us ≡ false
  no_colons [] h = refl
  no_colons (u ∷ us) h = ap (λ z. z || has_colon byte us) (not-true (is_colon byte u) h.0) ∙ no_colons us h.1

  some_colon : (p us : List (List A)) (c : List A) → is_colon byte c ≡ true → has_colon byte (p ++ c ∷ us) ≡ true
  some_colon [] us c h = ap (λ z. z || has_colon byte us) h
  some_colon (u ∷ p) us c h = ap (λ z. is_colon byte u || z) (some_colon p us c h) ∙ or-true (is_colon byte u)
    where
      or-true : (b : Bool) → (b || true) ≡ true
      or-true true = refl
      or-true false = refl

  -- the prerequisites are read again
  prerequisites-again : (s : Separated A) (p c n b o t : List (List A)) → Each (is_no_bar byte) n → FitsBar byte b o
      → with_prerequisites byte s p c (n ++ (b ++ o)) t ≡ record { separator = s.separator; targets = s.targets; colons = s.colons; pattern = p; second_colon = c; normal = n; bar = b; order_only = o; tail = t }
  prerequisites-again s p c n [] o t h k =
      rw (k, leading-append_all (is_no_bar byte) n [] h tt, after_leading-append_all (is_no_bar byte) n [] h tt) refl
  prerequisites-again s p c n (b ∷ []) o t h k =
      let stops : is_no_bar byte b ≡ false = ap not k in
      rw (leading-append_all (is_no_bar byte) n (b ∷ o) h stops, after_leading-append_all (is_no_bar byte) n (b ∷ o) h stops) refl
  prerequisites-again s p c n (b ∷ d ∷ bs) o t h k = absurd k

  parts-again : (s : Separated A) (p c n b o t : List (List A)) → s.rest ≡ p ++ (c ++ (n ++ (b ++ o))) → FitsPattern byte p c (n ++ (b ++ o)) → Each (is_no_bar byte) n → FitsBar byte b o
      → header_parts byte s t ≡ record { separator = s.separator; targets = s.targets; colons = s.colons; pattern = p; second_colon = c; normal = n; bar = b; order_only = o; tail = t }
  parts-again s p [] n b o t e f h k =
      let rest : s.rest ≡ n ++ (b ++ o) = e ∙ ap (λ z. z ++ (n ++ (b ++ o))) f.0 in
      ap (λ z. cond (has_colon byte z) (with_prerequisites byte s (leading (is_no_colon byte) z) (take 1 (after_leading (is_no_colon byte) z)) (drop 1 (after_leading (is_no_colon byte) z)) t) (with_prerequisites byte s [] [] z t)) rest
      ∙ (ap (λ z. cond z (with_prerequisites byte s (leading (is_no_colon byte) (n ++ (b ++ o))) (take 1 (after_leading (is_no_colon byte) (n ++ (b ++ o)))) (drop 1 (after_leading (is_no_colon byte) (n ++ (b ++ o)))) t) (with_prerequisites byte s [] [] (n ++ (b ++ o)) t)) (no_colons (n ++ (b ++ o)) f.1)
      ∙ (prerequisites-again s [] [] n b o t h k
      ∙ ap (λ z. record { separator = s.separator; targets = s.targets; colons = s.colons; pattern = z; second_colon = []; normal = n; bar = b; order_only = o; tail = t }) (sym f.0)))
  parts-again s p (c ∷ []) n b o t e f h k =
      let U = n ++ (b ++ o) in
      let stops : is_no_colon byte c ≡ false = ap not f.0 in
      let l : leading (is_no_colon byte) (p ++ c ∷ U) ≡ p = leading-append_all (is_no_colon byte) p (c ∷ U) f.1 stops in
      let r : after_leading (is_no_colon byte) (p ++ c ∷ U) ≡ c ∷ U = after_leading-append_all (is_no_colon byte) p (c ∷ U) f.1 stops in
      ap (λ z. cond (has_colon byte z) (with_prerequisites byte s (leading (is_no_colon byte) z) (take 1 (after_leading (is_no_colon byte) z)) (drop 1 (after_leading (is_no_colon byte) z)) t) (with_prerequisites byte s [] [] z t)) e
      ∙ (ap (λ z. cond z (with_prerequisites byte s (leading (is_no_colon byte) (p ++ c ∷ U)) (take 1 (after_leading (is_no_colon byte) (p ++ c ∷ U))) (drop 1 (after_leading (is_no_colon byte) (p ++ c ∷ U))) t) (with_prerequisites byte s [] [] (p ++ c ∷ U) t)) (some_colon p U c f.0)
      ∙ (ap (λ z. with_prerequisites byte s z (take 1 (after_leading (is_no_colon byte) (p ++ c ∷ U))) (drop 1 (after_leading (is_no_colon byte) (p ++ c ∷ U))) t) l
      ∙ (ap (λ z. with_prerequisites byte s p (take 1 z) (drop 1 z) t) r
      ∙ prerequisites-again s p (c ∷ []) n b o t h k)))
  parts-again s p (c ∷ d ∷ cs) n b o t e f h k = absurd f

  -- ---- the line

  -- parts that fit are read again from their units
  pub header-again : (h : Header A) → FitsHeader byte h → header byte (header_units h) ≡ h
  header-again h f =
      let whole : h.targets ++ (h.colons ++ (h.pattern ++ (h.second_colon ++ (h.normal ++ (h.bar ++ (h.order_only ++ h.tail))))))
      ≡ (h.targets ++ (h.colons ++ (h.pattern ++ (h.second_colon ++ (h.normal ++ (h.bar ++ h.order_only)))))) ++ h.tail = simp append_assoc in
      let front : head byte (header_units h) ≡ head_units h = ap (head byte) whole ∙ leading-append_all (is_in_head byte) (head_units h) h.tail f.in_head f.tail_ends in
      let rest : after_head byte (header_units h) ≡ h.tail = ap (after_head byte) whole ∙ after_leading-append_all (is_in_head byte) (head_units h) h.tail f.in_head f.tail_ends in
      let s : separated byte (head_units h) ≡ record { separator = h.separator; targets = h.targets; colons = h.colons; rest = after_separator h } =
      separated-again h.separator h.targets h.colons (after_separator h) f.no_colon f.targets_apart f.colons_are f.rest_apart in
      ap (λ z. header_parts byte (separated byte z) (after_head byte (header_units h))) front
      ∙ (ap (header_parts byte (separated byte (head_units h))) rest
      ∙ (ap (λ z. header_parts byte z h.tail) s
      ∙ parts-again (record { separator = h.separator; targets = h.targets; colons = h.colons; rest = after_separator h }) h.pattern h.second_colon h.normal h.bar h.order_only h.tail refl f.pattern_fits f.no_bar f.bar_fits))
