-- The parts of the image of a header's line are the images of the parts of the line, and the image is Rough if the line is.
use Rattle.std.proofs.Common.{◌≡◌, refl, ap, ◌∙◌, ℕ, List, [], ◌∷◌, map, Bool, true, false, not, ◌&&◌, ◌||◌, cond, Some, None, take, drop}
use Rattle.std.specs.List.{list_any}
use Rattle.std.proofs.lemmas.List.{take-map, drop-map}
use Rattle.mk_lines.specs.Lists.{leading, after_leading}
use Rattle.mk_lines.specs.Words.{is_gap}
use Rattle.mk_lines.proofs.on_units.TokenLemmas.{is_gap-map}
use Rattle.mk_class.specs.ListTests.{until, from, first_passes}
use Rattle.mk_class.proofs.on_symbols.ListMaps.{is_empty-map, any-map, first_passes-map, last_passes-map, leading-map, after_leading-map, until-map, from-map}
use Rattle.mk_class.specs.Symbols.{symbol, is_hash, is_colon, is_equals, is_bar, is_ampersand, is_unreadable_unit}
use Rattle.mk_class.proofs.on_symbols.SymbolMaps.{symbols-map, is_hash-map, is_colon-map, is_equals-map, is_bar-map, is_ampersand-map, is_unreadable_unit-map, words_of-map, head-map, after_head-map}
use Rattle.mk_class.specs.Texts.{words_of}
use Rattle.mk_class.specs.CutTexts.{head, after_head}
use Rattle.mk_class.specs.Separators.{Separated, separator_at, separator_length, has_colon, begins_separator, separated_before, separated}
use Rattle.mk_class.specs.Headers.{Header, is_no_colon, is_no_bar, with_prerequisites, header_parts, header, has_unreadable, has_colon_after_other, has_third_separator, has_bad_bar, has_second_bar, is_single, has_bad_pattern, is_rough, inline_recipe}
use Rattle.mk_class.specs.LocatedClasses.{is_some}
use Rattle.mk_class.specs.declared.rule.Separator.{Separator}

-- the image of a text taken apart at its separator
abbrev pub map_separated : {A B : Type 0} → (A → B) → Separated A → Separated B
map_separated f s = record {
  separator = s.separator;
  targets = map (map f) s.targets;
  colons = map (map f) s.colons;
  rest = map (map f) s.rest;
}

-- the image of the parts of a header's line
abbrev pub map_header : {A B : Type 0} → (A → B) → Header A → Header B
map_header f h = record {
  separator = h.separator;
  targets = map (map f) h.targets;
  colons = map (map f) h.colons;
  pattern = map (map f) h.pattern;
  second_colon = map (map f) h.second_colon;
  normal = map (map f) h.normal;
  bar = map (map f) h.bar;
  order_only = map (map f) h.order_only;
  tail = map (map f) h.tail;
}

module _ {A B : Type 0} (f : A → B) (byte : B → ℕ) where
  -- ---- separators

  -- there is a `:` among the images of units if there is one among the units
  pub has_colon-map : (us : List (List A)) → has_colon byte (map (map f) us) ≡ has_colon (λ x. byte (f x)) us
  has_colon-map us = any-map (map f) (is_colon (λ x. byte (f x))) (is_colon byte) (is_colon-map f byte) us

  first_colon-map : (us : List (List A)) → first_passes (is_colon byte) (map (map f) us) ≡ first_passes (is_colon (λ x. byte (f x))) us
  first_colon-map us = first_passes-map (map f) (is_colon (λ x. byte (f x))) (is_colon byte) (is_colon-map f byte) us

  first_ampersand-map : (us : List (List A)) → first_passes (is_ampersand byte) (map (map f) us) ≡ first_passes (is_ampersand (λ x. byte (f x))) us
  first_ampersand-map us = first_passes-map (map f) (is_ampersand (λ x. byte (f x))) (is_ampersand byte) (is_ampersand-map f byte) us

  -- a separator stands at the front of the images of units if one stands at the front of the units
  begins_separator-map : (us : List (List A)) → begins_separator byte (map (map f) us) ≡ begins_separator (λ x. byte (f x)) us
  begins_separator-map us =
      let e : first_passes (is_colon byte) (drop 1 (map (map f) us)) ≡ first_passes (is_colon (λ x. byte (f x))) (drop 1 us) = ap (first_passes (is_colon byte)) (drop-map (map f) 1 us) ∙ first_colon-map (drop 1 us) in
      ap (λ z. z || (first_passes (is_ampersand byte) (map (map f) us) && first_passes (is_colon byte) (drop 1 (map (map f) us)))) (first_colon-map us)
      ∙ (ap (λ z. first_passes (is_colon (λ x. byte (f x))) us || (z && first_passes (is_colon byte) (drop 1 (map (map f) us)))) (first_ampersand-map us)
      ∙ ap (λ z. first_passes (is_colon (λ x. byte (f x))) us || (first_passes (is_ampersand (λ x. byte (f x))) us && z)) e)

  separated_before-map : (s : Separator) (t us : List (List A)) → separated_before byte s (map (map f) t) (map (map f) us) ≡ map_separated f (separated_before (λ x. byte (f x)) s t us)
  separated_before-map s t us = rw (take-map (map f) (separator_length s) us, drop-map (map f) (separator_length s) us) refl

  -- the images of units taken apart at their separator
  pub separated-map : (us : List (List A)) → separated byte (map (map f) us) ≡ map_separated f (separated (λ x. byte (f x)) us)
  separated-map us =
      let T = until (begins_separator (λ x. byte (f x))) us in
      let R = from (begins_separator (λ x. byte (f x))) us in
      rw (
        until-map (map f) (begins_separator (λ x. byte (f x))) (begins_separator byte) begins_separator-map us,
        from-map (map f) (begins_separator (λ x. byte (f x))) (begins_separator byte) begins_separator-map us,
        symbols-map f byte R,
      ) (separated_before-map (separator_at (map (symbol (λ x. byte (f x))) R)) T R)

  -- ---- the parts of a header's line

  is_no_colon-map : (u : List A) → is_no_colon byte (map f u) ≡ is_no_colon (λ x. byte (f x)) u
  is_no_colon-map u = ap not (is_colon-map f byte u)

  is_no_bar-map : (u : List A) → is_no_bar byte (map f u) ≡ is_no_bar (λ x. byte (f x)) u
  is_no_bar-map u = ap not (is_bar-map f byte u)

  with_prerequisites-map : (s : Separated A) (p c us t : List (List A))
      → with_prerequisites byte (map_separated f s) (map (map f) p) (map (map f) c) (map (map f) us) (map (map f) t) ≡ map_header f (with_prerequisites (λ x. byte (f x)) s p c us t)
  with_prerequisites-map s p c us t =
      let R = after_leading (is_no_bar (λ x. byte (f x))) us in
      rw (
        leading-map (map f) (is_no_bar (λ x. byte (f x))) (is_no_bar byte) is_no_bar-map us,
        after_leading-map (map f) (is_no_bar (λ x. byte (f x))) (is_no_bar byte) is_no_bar-map us,
        take-map (map f) 1 R,
        drop-map (map f) 1 R,
      ) refl

  with_pattern-map : (s : Separated A) (r t : List (List A))
      → with_prerequisites byte (map_separated f s) (leading (is_no_colon byte) (map (map f) r)) (take 1 (after_leading (is_no_colon byte) (map (map f) r))) (drop 1 (after_leading (is_no_colon byte) (map (map f) r))) (map (map f) t)
      ≡ map_header f (with_prerequisites (λ x. byte (f x)) s (leading (is_no_colon (λ x. byte (f x))) r) (take 1 (after_leading (is_no_colon (λ x. byte (f x))) r)) (drop 1 (after_leading (is_no_colon (λ x. byte (f x))) r)) t)
  with_pattern-map s r t =
      let P = leading (is_no_colon (λ x. byte (f x))) r in
      let R = after_leading (is_no_colon (λ x. byte (f x))) r in
      let l : leading (is_no_colon byte) (map (map f) r) ≡ map (map f) P = leading-map (map f) (is_no_colon (λ x. byte (f x))) (is_no_colon byte) is_no_colon-map r in
      let a : after_leading (is_no_colon byte) (map (map f) r) ≡ map (map f) R = after_leading-map (map f) (is_no_colon (λ x. byte (f x))) (is_no_colon byte) is_no_colon-map r in
      let c : take 1 (after_leading (is_no_colon byte) (map (map f) r)) ≡ map (map f) (take 1 R) = ap (take 1) a ∙ take-map (map f) 1 R in
      let d : drop 1 (after_leading (is_no_colon byte) (map (map f) r)) ≡ map (map f) (drop 1 R) = ap (drop 1) a ∙ drop-map (map f) 1 R in
      ap (λ z. with_prerequisites byte (map_separated f s) z (take 1 (after_leading (is_no_colon byte) (map (map f) r))) (drop 1 (after_leading (is_no_colon byte) (map (map f) r))) (map (map f) t)) l
      ∙ (ap (λ z. with_prerequisites byte (map_separated f s) (map (map f) P) z (drop 1 (after_leading (is_no_colon byte) (map (map f) r))) (map (map f) t)) c
      ∙ (ap (λ z. with_prerequisites byte (map_separated f s) (map (map f) P) (map (map f) (take 1 R)) z (map (map f) t)) d
      ∙ with_prerequisites-map s P (take 1 R) (drop 1 R) t))

  header_parts-map : (s : Separated A) (t : List (List A)) → header_parts byte (map_separated f s) (map (map f) t) ≡ map_header f (header_parts (λ x. byte (f x)) s t)
  header_parts-map s t = rw (has_colon-map s.rest) (go (has_colon (λ x. byte (f x)) s.rest))
    where
      go : (c : Bool)
          → cond c
          (with_prerequisites byte (map_separated f s) (leading (is_no_colon byte) (map (map f) s.rest)) (take 1 (after_leading (is_no_colon byte) (map (map f) s.rest))) (drop 1 (after_leading (is_no_colon byte) (map (map f) s.rest))) (map (map f) t))
          (with_prerequisites byte (map_separated f s) [] [] (map (map f) s.rest) (map (map f) t))
          ≡ map_header f (cond c (with_prerequisites (λ x. byte (f x)) s (leading (is_no_colon (λ x. byte (f x))) s.rest) (take 1 (after_leading (is_no_colon (λ x. byte (f x))) s.rest)) (drop 1 (after_leading (is_no_colon (λ x. byte (f x))) s.rest)) t) (with_prerequisites (λ x. byte (f x)) s [] [] s.rest t))
      go true = with_pattern-map s s.rest t
      go false = with_prerequisites-map s [] [] s.rest t

  -- the parts of the image of a line are the images of its parts
  pub header-map : (us : List (List A)) → header byte (map (map f) us) ≡ map_header f (header (λ x. byte (f x)) us)
  header-map us =
      ap (λ h. header_parts byte (separated byte h) (after_head byte (map (map f) us))) (head-map f byte us)
      ∙ (ap (λ s. header_parts byte s (after_head byte (map (map f) us))) (separated-map (head (λ x. byte (f x)) us))
      ∙ (ap (header_parts byte (map_separated f (separated (λ x. byte (f x)) (head (λ x. byte (f x)) us)))) (after_head-map f byte us)
      ∙ header_parts-map (separated (λ x. byte (f x)) (head (λ x. byte (f x)) us)) (after_head (λ x. byte (f x)) us)))

  -- ---- what makes it Rough

  has_bar-map : (us : List (List A)) → list_any (is_bar byte) (map (map f) us) ≡ list_any (is_bar (λ x. byte (f x))) us
  has_bar-map us = any-map (map f) (is_bar (λ x. byte (f x))) (is_bar byte) (is_bar-map f byte) us

  has_unreadable-map : (us : List (List A)) → has_unreadable byte (map (map f) us) ≡ has_unreadable (λ x. byte (f x)) us
  has_unreadable-map us =
      any-map (map f) (λ u. is_equals (λ x. byte (f x)) u || is_unreadable_unit (λ x. byte (f x)) u) (λ u. is_equals byte u || is_unreadable_unit byte u)
      (λ u. ap (λ z. z || is_unreadable_unit byte (map f u)) (is_equals-map f byte u) ∙ ap (λ z. is_equals (λ x. byte (f x)) u || z) (is_unreadable_unit-map f byte u)) us

  has_colon_after_other-map : (h : Header A) → has_colon_after_other byte (map_header f h) ≡ has_colon_after_other (λ x. byte (f x)) h
  has_colon_after_other-map h = rw (is_empty-map (map f) h.second_colon) refl

  has_third_separator-map : (h : Header A) → has_third_separator byte (map_header f h) ≡ has_third_separator (λ x. byte (f x)) h
  has_third_separator-map h = rw (has_colon-map h.normal, has_colon-map h.order_only) refl

  is_no_gap-map : (u : List A) → not (is_gap byte (map f u)) ≡ not (is_gap (λ x. byte (f x)) u)
  is_no_gap-map u = ap not (is_gap-map f byte u)

  has_bad_bar-map : (h : Header A) → has_bad_bar byte (map_header f h) ≡ has_bad_bar (λ x. byte (f x)) h
  has_bad_bar-map h =
      rw (
        has_bar-map h.targets,
        has_bar-map h.pattern,
        is_empty-map (map f) h.bar,
        last_passes-map (map f) (λ u. not (is_gap (λ x. byte (f x)) u)) (λ u. not (is_gap byte u)) is_no_gap-map h.normal,
        first_passes-map (map f) (λ u. not (is_gap (λ x. byte (f x)) u)) (λ u. not (is_gap byte u)) is_no_gap-map h.order_only,
      ) refl

  has_second_bar-map : (h : Header A) → has_second_bar byte (map_header f h) ≡ has_second_bar (λ x. byte (f x)) h
  has_second_bar-map h = has_bar-map h.order_only

  is_single-map : (ws : List (List A)) → is_single byte (map (map f) ws) ≡ is_single (λ x. byte (f x)) ws
  is_single-map [] = refl
  is_single-map (w ∷ ws) = is_empty-map (map f) ws

  has_bad_pattern-map : (h : Header A) → has_bad_pattern byte (map_header f h) ≡ has_bad_pattern (λ x. byte (f x)) h
  has_bad_pattern-map h =
      let e : is_single byte (words_of byte (map (map f) h.pattern)) ≡ is_single (λ x. byte (f x)) (words_of (λ x. byte (f x)) h.pattern) = ap (is_single byte) (words_of-map f byte h.pattern) ∙ is_single-map (words_of (λ x. byte (f x)) h.pattern) in
      rw (is_empty-map (map f) h.second_colon, e) refl

  -- the image of a line is Rough if the line is
  pub is_rough-map : (us : List (List A)) (h : Header A) → is_rough byte (map (map f) us) (map_header f h) ≡ is_rough (λ x. byte (f x)) us h
  is_rough-map us h =
      rw (has_unreadable-map us, has_colon_after_other-map h, has_third_separator-map h, has_bad_bar-map h, has_second_bar-map h, has_bad_pattern-map h) refl

  -- ---- the inline recipe

  -- the image of a line has an inline recipe if the line has one
  pub has_recipe-map : (h : Header A) → is_some (inline_recipe byte (map_header f h)) ≡ is_some (inline_recipe (λ x. byte (f x)) h)
  has_recipe-map h = go h.tail
    where
      go : (t : List (List A))
          → is_some (elim (map (map f) t) [ [] ↦ None | u ∷ us ↦ cond (is_hash byte u) None (Some us) ]) ≡ is_some (elim t [ [] ↦ None | u ∷ us ↦ cond (is_hash (λ x. byte (f x)) u) None (Some us) ])
      go [] = refl
      go (u ∷ us) = rw (is_hash-map f byte u) (of (is_hash (λ x. byte (f x)) u) us)
        where
          of : (c : Bool) (us : List (List A)) → is_some (cond c None (Some (map (map f) us))) ≡ is_some (cond c None (Some us))
          of true us = refl
          of false us = refl
