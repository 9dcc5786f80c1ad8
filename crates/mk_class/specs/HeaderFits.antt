-- Which parts fit a header: parts that are read again from their units, when these stand in a line.
-- Told in docs/PROOFS.md, "Reading a makefile".
use Rattle.std.specs.Prelude.{◌≡◌, ℕ, ◌&&◌, true, false, map, List, [], ◌∷◌, ◌++◌}
use Rattle.mk_lines.specs.Lists.{Each, FirstFails}
use Rattle.mk_class.specs.ListTests.{first_passes, last_passes}
use Rattle.mk_class.specs.Symbols.{Symbol, Colon, Ampersand, symbol, is_colon, is_bar, is_ampersand}
use Rattle.mk_class.specs.CutTexts.{is_in_head}
use Rattle.mk_class.specs.Headers.{Header, is_no_bar, is_no_colon}
use Rattle.mk_class.specs.declared.rule.Separator.{Separator}
use Rattle.mk_class.specs.declared.rule.Separator.TheVariants.{SingleColon, DoubleColon, GroupedColon, GroupedDoubleColon}

-- the symbols of a separator
abbrev pub separator_symbols : Separator → List Symbol
separator_symbols SingleColon = Colon ∷ []
separator_symbols DoubleColon = Colon ∷ Colon ∷ []
separator_symbols GroupedColon = Ampersand ∷ Colon ∷ []
separator_symbols GroupedDoubleColon = Ampersand ∷ Colon ∷ Colon ∷ []

-- the units of a header's prerequisites
abbrev pub prerequisite_units : {A : Type 0} → Header A → List (List A)
prerequisite_units h = h.normal ++ (h.bar ++ h.order_only)

-- the units of a header between its separator and the end of its head
abbrev pub after_separator : {A : Type 0} → Header A → List (List A)
after_separator h = h.pattern ++ (h.second_colon ++ prerequisite_units h)

-- the units of a header's head
abbrev pub head_units : {A : Type 0} → Header A → List (List A)
head_units h = h.targets ++ (h.colons ++ after_separator h)

module _ {A : Type 0} (byte : A → ℕ) where
  -- a pattern has no `:`, and a `:` stands after it; without a pattern, there is no `:` among the
  -- prerequisites
  abbrev pub FitsPattern : (pattern second_colon prerequisites : List (List A)) → Type 0
  FitsPattern p [] us = (p ≡ []) × Each (is_no_colon byte) us
  FitsPattern p (c ∷ []) us = (is_colon byte c ≡ true) × Each (is_no_colon byte) p
  FitsPattern p (c ∷ d ∷ cs) us = ⊥

  -- order-only prerequisites stand after a `|`
  abbrev pub FitsBar : (bar order_only : List (List A)) → Type 0
  FitsBar [] o = o ≡ []
  FitsBar (b ∷ []) o = is_bar byte b ≡ true
  FitsBar (b ∷ c ∷ bs) o = ⊥

  -- these parts are those of a header's line
  pub record FitsHeader (h : Header A) : Type 0 where
    pub in_head : Each (is_in_head byte) (head_units h)
    pub tail_ends : FirstFails (is_in_head byte) h.tail
    pub no_colon : Each (is_no_colon byte) h.targets
    pub targets_apart : (last_passes (is_ampersand byte) h.targets
        && first_passes (is_colon byte) h.colons) ≡ false
    pub colons_are : map (symbol byte) h.colons ≡ separator_symbols h.separator
    pub rest_apart : first_passes (is_colon byte) (after_separator h) ≡ false
    pub pattern_fits : FitsPattern h.pattern h.second_colon (prerequisite_units h)
    pub no_bar : Each (is_no_bar byte) h.normal
    pub bar_fits : FitsBar h.bar h.order_only
