-- The recipe prefix: the byte that begins recipe lines, and the assignments that set it.
-- Told in docs/LANGUAGE.md, chapter 4.
use Rattle.std.specs.Prelude.{ℕ, ◌==◌, if◌then◌else◌, Bool, true, false, not, ◌&&◌, ◌||◌, nat_le, List, [], ◌∷◌, Option, Some, None, codes}
use Rattle.std.specs.Str.{bytes_eq}
use Rattle.mk_class.specs.ListTests.{is_empty}
use Rattle.mk_class.specs.Texts.{unit_text}
use Rattle.mk_class.specs.Assignments.{Assignment}
use Rattle.mk_class.specs.declared.assignment.Flavor.{Flavor}
use Rattle.mk_class.specs.declared.assignment.Flavor.TheVariants.{Recursive, Simple, PosixSimple}

-- a tab, which is the prefix if none is set
abbrev pub tab : ℕ
tab = 9

-- whether a line begins with the prefix
abbrev pub is_prefix_led : (prefix : ℕ) → List ℕ → Bool
is_prefix_led p [] = false
is_prefix_led p (b ∷ l) = b == p

-- whether a byte is a `.`
abbrev pub is_dot : ℕ → Bool
is_dot b = b == 46

-- whether a variable's name is `.RECIPEPREFIX`
abbrev pub is_prefix_name : List ℕ → Bool
is_prefix_name n = bytes_eq n (codes ".RECIPEPREFIX")

-- whether an assignment of this flavor may set the prefix: `=`, `:=` or `::=`
abbrev pub may_set_prefix : Flavor → Bool
may_set_prefix Recursive = true
may_set_prefix Simple = true
may_set_prefix PosixSimple = true
may_set_prefix f = false

-- whether a byte may be a prefix: printable ASCII other than the blank, `$` and backslash
abbrev pub may_be_prefix : ℕ → Bool
may_be_prefix b = (nat_le 33 b && nat_le b 126) && not ((b == 36) || (b == 92))

-- the prefix that a value says: a tab if the value is empty, and otherwise its first byte, if that
-- byte may be a prefix
abbrev pub prefix_of_value : List ℕ → Option ℕ
prefix_of_value [] = Some tab
prefix_of_value (b ∷ v) = if may_be_prefix b then Some b else None

module _ {A : Type 0} (byte : A → ℕ) where
  -- whether an assignment sets the prefix in a way that is read: it has no modifiers, no
  -- conditional is open, and its flavor may set the prefix
  abbrev pub is_read_for_prefix : (in_conditional : Bool) → Assignment A → Bool
  is_read_for_prefix c a =
      is_prefix_name (unit_text byte a.name)
      && (is_empty a.modifiers
      && (not c
      && may_set_prefix a.flavor))

  -- the prefix that an assignment sets, if it sets one
  abbrev pub prefix_set_by : (in_conditional : Bool) → Assignment A → Option ℕ
  prefix_set_by c a =
      if is_read_for_prefix c a then prefix_of_value (unit_text byte a.value) else None

-- whether a byte may be in force as the recipe prefix: a tab, or a byte that an assignment may set
abbrev pub is_prefix_byte : ℕ → Bool
is_prefix_byte b = (b == tab) || may_be_prefix b
