-- The parts of a header's line, and what makes such a line Rough.
-- Told in docs/LANGUAGE.md, chapters 3 and 5.
use Rattle.std.specs.Prelude.{ℕ, if◌then◌else◌, Bool, false, not, ◌&&◌, ◌||◌, List, [], ◌∷◌, take, drop, Option, Some, None, ◌++◌}
use Rattle.std.specs.List.{list_any}
use Rattle.mk_lines.specs.Lists.{leading, after_leading}
use Rattle.mk_lines.specs.Words.{is_gap}
use Rattle.mk_class.specs.ListTests.{is_empty, first_passes, last_passes}
use Rattle.mk_class.specs.Texts.{words_of}
use Rattle.mk_class.specs.Symbols.{is_hash, is_colon, is_equals, is_bar, is_unreadable_unit}
use Rattle.mk_class.specs.CutTexts.{head, after_head}
use Rattle.mk_class.specs.Separators.{Separated, separated, has_colon, is_single_colon}
use Rattle.mk_class.specs.Assignments.{Assignment}
use Rattle.mk_class.specs.declared.rule.Separator.{Separator}

-- The parts of a header's line. The eight lists of units follow one another and are the line: the
-- targets; the separator; the pattern and the second `:`, if there is one; the normal
-- prerequisites; the `|`, if there is one; the order-only prerequisites; and what follows the head.
pub record Header (A : Type 0) : Type 0 where
  pub separator : Separator
  pub targets : List (List A)
  pub colons : List (List A)
  pub pattern : List (List A)
  pub second_colon : List (List A)
  pub normal : List (List A)
  pub bar : List (List A)
  pub order_only : List (List A)
  pub tail : List (List A)

-- An assignment after a separator. The targets, the separator and the units of the assignment
-- follow one another and are the cut text.
pub record TargetAssignment (A : Type 0) : Type 0 where
  pub separator : Separator
  pub targets : List (List A)
  pub colons : List (List A)
  pub assigned : Assignment A

module _ {A : Type 0} (byte : A → ℕ) where
  -- whether a unit is no `:`
  abbrev pub is_no_colon : List A → Bool
  is_no_colon u = not (is_colon byte u)

  -- whether a unit is no `|`
  abbrev pub is_no_bar : List A → Bool
  is_no_bar u = not (is_bar byte u)

  -- the parts of a line, from what stands before its prerequisites, from the prerequisites, and
  -- from what follows the head
  abbrev pub with_prerequisites : (s : Separated A)
      → (pattern second_colon prerequisites tail : List (List A)) → Header A
  with_prerequisites s p c us t = record {
    separator = s.separator;
    targets = s.targets;
    colons = s.colons;
    pattern = p;
    second_colon = c;
    normal = leading is_no_bar us;
    bar = take 1 (after_leading is_no_bar us);
    order_only = drop 1 (after_leading is_no_bar us);
    tail = t;
  }

  -- the parts of a line, from its head taken apart and from what follows the head: the pattern is
  -- what stands before a second `:`
  abbrev pub header_parts : Separated A → (tail : List (List A)) → Header A
  header_parts s t =
      if has_colon byte s.rest
      then with_prerequisites s (leading is_no_colon s.rest)
      (take 1 (after_leading is_no_colon s.rest)) (drop 1 (after_leading is_no_colon s.rest)) t
      else with_prerequisites s [] [] s.rest t

  -- the parts of a line whose head has a `:`
  abbrev pub header : List (List A) → Header A
  header us = header_parts (separated byte (head byte us)) (after_head byte us)

  -- ---- what makes it Rough

  -- whether there is a `=` or a unit that may stand in no word
  abbrev pub has_unreadable : List (List A) → Bool
  has_unreadable us = list_any (λ u. is_equals byte u || is_unreadable_unit byte u) us

  -- whether a `:` stands after a separator other than `:`
  abbrev pub has_colon_after_other : Header A → Bool
  has_colon_after_other h = not (is_empty h.second_colon) && not (is_single_colon h.separator)

  -- whether there is a third separator
  abbrev pub has_third_separator : Header A → Bool
  has_third_separator h = has_colon byte h.normal || has_colon byte h.order_only

  -- whether there is a `|` among the prerequisites that is no word by itself
  abbrev pub has_bad_bar : Header A → Bool
  has_bad_bar h =
      list_any (is_bar byte) h.targets || list_any (is_bar byte) h.pattern
      || (not (is_empty h.bar)
      && (last_passes (λ u. not (is_gap byte u)) h.normal
      || first_passes (λ u. not (is_gap byte u)) h.order_only))

  -- whether there is a second `|` among the prerequisites
  abbrev pub has_second_bar : Header A → Bool
  has_second_bar h = list_any (is_bar byte) h.order_only

  -- whether a list has just one element
  abbrev pub is_single : {B : Type 0} → List B → Bool
  is_single [] = false
  is_single (x ∷ xs) = is_empty xs

  -- whether anything but one word stands between two separators
  abbrev pub has_bad_pattern : Header A → Bool
  has_bad_pattern h = not (is_empty h.second_colon) && not (is_single (words_of byte h.pattern))

  -- whether a line with this head and these parts is Rough
  abbrev pub is_rough : (head : List (List A)) → Header A → Bool
  is_rough us h =
      has_unreadable us
      || (has_colon_after_other h
      || (has_third_separator h
      || (has_bad_bar h
      || (has_second_bar h
      || has_bad_pattern h))))

  -- ---- the inline recipe

  -- the inline recipe: all that follows a `;` that ends the head, where a `#` begins no comment;
  -- None if no `;` ends the head
  abbrev pub inline_recipe : Header A → Option (List (List A))
  inline_recipe h = elim h.tail [
    | [] ↦ None
    | u ∷ us ↦ if is_hash byte u then None else Some us
  ]

-- the units of a line's parts
abbrev pub header_units : {A : Type 0} → Header A → List (List A)
header_units h =
    h.targets ++ (h.colons ++ (h.pattern ++ (h.second_colon ++ (h.normal ++ (h.bar ++ (h.order_only
    ++ h.tail))))))
