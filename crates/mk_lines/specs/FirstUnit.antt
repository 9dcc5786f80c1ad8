-- What a unit is: the unit at the front of a text, and which units leave a text open.
-- Told in docs/LANGUAGE.md, chapter 1.
use Rattle.std.specs.Prelude.{ℕ, ◌+◌, ◌==◌, if◌then◌else◌, Bool, true, false, not, ◌||◌, List, [], ◌∷◌, ◌++◌, length, drop}
use Rattle.mk_lines.specs.Units.{Mark, Dollar, Escape, OpenParen, CloseParen, OpenBrace, CloseBrace, byte_mark}

-- the least prefix longer than `seen` that passes the test, or the whole list if no prefix does
abbrev pub least_prefix_after : {A : Type 0} → (List A → Bool) → (seen : List A) → List A → List A
least_prefix_after p seen [] = seen
least_prefix_after p seen (x ∷ t) =
    if p (seen ++ x ∷ []) then seen ++ x ∷ [] else least_prefix_after p (seen ++ x ∷ []) t

-- the least prefix that is not empty and passes the test, or the whole list if no prefix does
abbrev pub least_prefix : {A : Type 0} → (List A → Bool) → List A → List A
least_prefix p t = least_prefix_after p [] t

-- whether a mark is `(`
abbrev pub is_open_paren : Mark → Bool
is_open_paren OpenParen = true
is_open_paren m = false

-- whether a mark is `)`
abbrev pub is_close_paren : Mark → Bool
is_close_paren CloseParen = true
is_close_paren m = false

-- whether a mark is `{`
abbrev pub is_open_brace : Mark → Bool
is_open_brace OpenBrace = true
is_open_brace m = false

-- whether a mark is `}`
abbrev pub is_close_brace : Mark → Bool
is_close_brace CloseBrace = true
is_close_brace m = false

module _ {A : Type 0} (byte : A → ℕ) where
  -- how many elements of a text have such a mark
  abbrev pub mark_count : (Mark → Bool) → List A → ℕ
  mark_count p [] = 0
  mark_count p (x ∷ t) = (if p (byte_mark (byte x)) then 1 else 0) + mark_count p t

  -- whether a text has as many `(` as `)`, and as many `{` as `}`
  abbrev pub has_level_parens : List A → Bool
  has_level_parens t = mark_count is_open_paren t == mark_count is_close_paren t

  -- whether a text has as many `{` as `}`
  abbrev pub has_level_braces : List A → Bool
  has_level_braces t = mark_count is_open_brace t == mark_count is_close_brace t

  -- A dollar with what it takes. Before `(` or `{` that is the reference: up to the least offset at
  -- which these brackets are level, or up to the end of the text if there is no such offset.
  -- Otherwise it is the next byte, or nothing at the end of the text.
  abbrev pub dollar_unit_at : Mark → (dollar next : A) → List A → List A
  dollar_unit_at OpenParen d x t = d ∷ least_prefix has_level_parens (x ∷ t)
  dollar_unit_at OpenBrace d x t = d ∷ least_prefix has_level_braces (x ∷ t)
  dollar_unit_at m d x t = d ∷ x ∷ []

  -- the unit of a dollar before a text
  abbrev pub dollar_unit : A → List A → List A
  dollar_unit d [] = d ∷ []
  dollar_unit d (x ∷ t) = dollar_unit_at (byte_mark (byte x)) d x t

  -- a backslash with the byte after it; alone if that byte is a dollar, or if the text ends
  abbrev pub backslash_unit_at : Mark → (backslash next : A) → List A
  backslash_unit_at Dollar b x = b ∷ []
  backslash_unit_at m b x = b ∷ x ∷ []

  -- the unit of a backslash before a text
  abbrev pub backslash_unit : A → List A → List A
  backslash_unit b [] = b ∷ []
  backslash_unit b (x ∷ t) = backslash_unit_at (byte_mark (byte x)) b x

  -- the unit of an element by its mark, before the text after it
  abbrev pub unit_at : Mark → A → List A → List A
  unit_at Dollar x t = dollar_unit x t
  unit_at Escape x t = backslash_unit x t
  unit_at m x t = x ∷ []

  -- the unit at the front of a text
  abbrev pub first_unit : List A → List A
  first_unit [] = []
  first_unit (x ∷ t) = unit_at (byte_mark (byte x)) x t

  -- what follows the unit at the front of a text
  abbrev pub after_first_unit : List A → List A
  after_first_unit t = drop (length (first_unit t)) t

  -- ---- units that leave a text open

  -- whether the rest of a dollar unit, which begins with a byte of this mark, is a reference whose
  -- brackets are not level
  abbrev pub is_unclosed_at : Mark → (rest : List A) → Bool
  is_unclosed_at OpenParen r = not (has_level_parens r)
  is_unclosed_at OpenBrace r = not (has_level_braces r)
  is_unclosed_at m r = false

  -- whether a unit that begins with a byte of this mark is a lone dollar or an unclosed reference
  abbrev pub is_unclosed_by : Mark → List A → Bool
  is_unclosed_by Dollar [] = true
  is_unclosed_by Dollar (x ∷ t) = is_unclosed_at (byte_mark (byte x)) (x ∷ t)
  is_unclosed_by m t = false

  -- whether a unit is a lone dollar or a reference whose brackets are not level
  abbrev pub is_unclosed_unit : List A → Bool
  is_unclosed_unit [] = false
  is_unclosed_unit (x ∷ t) = is_unclosed_by (byte_mark (byte x)) t

  -- whether a mark is a backslash
  abbrev pub is_backslash_mark : Mark → Bool
  is_backslash_mark Escape = true
  is_backslash_mark m = false

  -- whether a unit is a lone backslash
  abbrev pub is_lone_backslash : List A → Bool
  is_lone_backslash [] = false
  is_lone_backslash (x ∷ []) = is_backslash_mark (byte_mark (byte x))
  is_lone_backslash (x ∷ y ∷ t) = false

  -- whether some unit is a lone dollar or an unclosed reference, or the last one is a lone
  -- backslash
  abbrev pub leaves_open : List (List A) → Bool
  leaves_open [] = false
  leaves_open (u ∷ []) = is_unclosed_unit u || is_lone_backslash u
  leaves_open (u ∷ v ∷ us) = is_unclosed_unit u || leaves_open (v ∷ us)
