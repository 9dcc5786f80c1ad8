-- Laws of headers: the parts of a line are the line.
use Rattle.std.proofs.Common.{◌≡◌, ap, ◌∙◌, ℕ, List, [], ◌++◌, map, Bool, true, false, cond, append_assoc, take, drop}
use Rattle.std.proofs.lemmas.List.{take-append-drop}
use Rattle.mk_lines.specs.Lists.{leading, after_leading}
use Rattle.mk_lines.proofs.on_lists.ListLemmas.{leading-after_leading}
use Rattle.mk_class.specs.ListTests.{until, from}
use Rattle.mk_class.specs.Symbols.{symbol}
use Rattle.mk_class.specs.CutTexts.{head, after_head, is_in_head}
use Rattle.mk_class.proofs.on_symbols.ListLemmas.{until-from}
use Rattle.mk_class.specs.Separators.{Separated, separated, separator_at, separator_length, begins_separator, has_colon, separated_units}
use Rattle.mk_class.specs.Headers.{header, header_parts, with_prerequisites, is_no_bar, is_no_colon, header_units}

module _ {A : Type 0} (byte : A → ℕ) where
  -- a text taken apart at its separator is the text
  pub separated-whole : (us : List (List A)) → separated_units (separated byte us) ≡ us
  separated-whole us =
      let rest = from (begins_separator byte) us in
      ap (λ z. until (begins_separator byte) us ++ z) (take-append-drop (separator_length (separator_at (map (symbol byte) rest))) rest) ∙ until-from (begins_separator byte) us

  prerequisites-whole : (s : Separated A) (p c us t : List (List A)) → header_units (with_prerequisites byte s p c us t) ≡ s.targets ++ (s.colons ++ (p ++ (c ++ (us ++ t))))
  prerequisites-whole s p c us t =
      let N = leading (is_no_bar byte) us in
      let R = after_leading (is_no_bar byte) us in
      let e : N ++ (take 1 R ++ (drop 1 R ++ t)) ≡ (N ++ (take 1 R ++ drop 1 R)) ++ t = simp append_assoc in
      let f : N ++ (take 1 R ++ (drop 1 R ++ t)) ≡ us ++ t = e ∙ ap (λ z. z ++ t) (ap (λ z. N ++ z) (take-append-drop 1 R) ∙ leading-after_leading (is_no_bar byte) us) in
      ap (λ z. s.targets ++ (s.colons ++ (p ++ (c ++ z)))) f

  parts-whole : (s : Separated A) (t : List (List A)) → header_units (header_parts byte s t) ≡ s.targets ++ (s.colons ++ (s.rest ++ t))
  parts-whole s t = go (has_colon byte s.rest)
    where
      go : (c : Bool)
          → header_units (cond c (with_prerequisites byte s (leading (is_no_colon byte) s.rest) (take 1 (after_leading (is_no_colon byte) s.rest)) (drop 1 (after_leading (is_no_colon byte) s.rest)) t) (with_prerequisites byte s [] [] s.rest t))
          ≡ s.targets ++ (s.colons ++ (s.rest ++ t))
      go true =
          let P = leading (is_no_colon byte) s.rest in
          let R = after_leading (is_no_colon byte) s.rest in
          let e : P ++ (take 1 R ++ (drop 1 R ++ t)) ≡ (P ++ (take 1 R ++ drop 1 R)) ++ t = simp append_assoc in
          let f : P ++ (take 1 R ++ (drop 1 R ++ t)) ≡ s.rest ++ t = e ∙ ap (λ z. z ++ t) (ap (λ z. P ++ z) (take-append-drop 1 R) ∙ leading-after_leading (is_no_colon byte) s.rest) in
          prerequisites-whole s P (take 1 R) (drop 1 R) t ∙ ap (λ z. s.targets ++ (s.colons ++ z)) f
      go false = prerequisites-whole s [] [] s.rest t

  -- the parts of a line are the line
  pub header-whole : (us : List (List A)) → header_units (header byte us) ≡ us
  header-whole us =
      let s = separated byte (head byte us) in
      let e : s.targets ++ (s.colons ++ (s.rest ++ after_head byte us)) ≡ (s.targets ++ (s.colons ++ s.rest)) ++ after_head byte us = simp append_assoc in
      parts-whole s (after_head byte us) ∙ (e ∙ (ap (λ z. z ++ after_head byte us) (separated-whole (head byte us)) ∙ leading-after_leading (is_in_head byte) us))
