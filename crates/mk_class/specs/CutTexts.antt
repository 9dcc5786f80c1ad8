-- The cut text of a line, and the head of a rule's line.
-- Told in docs/LANGUAGE.md, chapters 2 and 3.
use Rattle.std.specs.Prelude.{◌≡◌, ℕ, Bool, true, false, not, List, [], ◌∷◌}
use Rattle.mk_lines.specs.Lists.{leading, after_leading}
use Rattle.mk_class.specs.Symbols.{Symbol, Hash, Semicolon, symbol, is_hash, is_semicolon}

-- whether a symbol ends the head: `;` or `#`
abbrev pub is_head_end_symbol : Symbol → Bool
is_head_end_symbol Hash = true
is_head_end_symbol Semicolon = true
is_head_end_symbol s = false

module _ {A : Type 0} (byte : A → ℕ) where
  -- whether a unit is within the cut text: it is no `#`
  abbrev pub is_no_hash : List A → Bool
  is_no_hash u = not (is_hash byte u)

  -- the cut text: the units before the first `#`, which begins a comment
  abbrev pub cut_text : List (List A) → List (List A)
  cut_text us = leading is_no_hash us

  -- the comment: the units from the first `#` on
  abbrev pub comment : List (List A) → List (List A)
  comment us = after_leading is_no_hash us

  -- whether a unit is within the head: it is neither `;` nor `#`
  abbrev pub is_in_head : List A → Bool
  is_in_head u = not (is_head_end_symbol (symbol byte u))

  -- the head: the units before the first `;` or `#`
  abbrev pub head : List (List A) → List (List A)
  head us = leading is_in_head us

  -- what follows the head: the units from the first `;` or `#` on
  abbrev pub after_head : List (List A) → List (List A)
  after_head us = after_leading is_in_head us

  -- what follows a head in a cut text: nothing, or a `;` and any units
  abbrev pub FollowsHead : List (List A) → Type 0
  FollowsHead [] = Unit {0}
  FollowsHead (u ∷ us) = is_semicolon byte u ≡ true
