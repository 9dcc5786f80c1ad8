-- Comments that say an assignment, as `# NAME = VALUE`.
-- Told in docs/EDITS.md, "Variables".
use Rattle.std.specs.Prelude.{ℕ, suc, zero, ◌-◌, ◌==◌, Bool, true, false, not, ◌&&◌, ◌||◌, List, [], ◌∷◌, ◌++◌, map, take, drop, length, is_some}
use Rattle.std.specs.Str.{bytes_eq}
use Rattle.mk_lines.specs.Bytes.{is_blank_byte}
use Rattle.mk_lines.specs.Lists.{leading, after_leading}
use Rattle.mk_lines.specs.Cells.{Cell}
use Rattle.mk_class.specs.ListTests.{is_empty}
use Rattle.mk_class.specs.Texts.{is_one_of}
use Rattle.mk_class.specs.Symbols.{byte_symbol}
use Rattle.mk_class.specs.Assignments.{operator_at}
use Rattle.mk_class.specs.Keywords.{modifier_words}
use Rattle.mk_class.specs.Classes.{Class}
use Rattle.mk_class.specs.Classes.Class.{Comment}
use Rattle.mk_class.specs.ClassedLines.{ClassedLine}

-- whether a text begins with a name, blanks and an operator
abbrev pub begins_assignment : (name text : List ℕ) → Bool
begins_assignment n t =
    bytes_eq (take (length n) t) n
    && is_some (operator_at (map byte_symbol (after_leading is_blank_byte (drop (length n) t))))

-- what stands at the front of a text before the first blank, and the blanks directly after it
abbrev pub first_word : List ℕ → List ℕ
first_word t = leading (λ b. not (is_blank_byte b)) t

abbrev pub blanks_after : List ℕ → List ℕ
blanks_after t = leading is_blank_byte (after_leading (λ b. not (is_blank_byte b)) t)

-- whether a text begins with a modifier and a blank
abbrev pub begins_modifier : List ℕ → Bool
begins_modifier t = is_one_of (first_word t) modifier_words && not (is_empty (blanks_after t))

-- how many bytes the first word and the blanks after it are
abbrev pub word_length : List ℕ → ℕ
word_length t = length (first_word t ++ blanks_after t)

-- whether a text begins with modifiers, each with blanks after it, and then with a name, blanks and an
-- operator; `passed` counts the bytes that still belong to the last modifier and its blanks
abbrev pub says_assignment : (name : List ℕ) → (passed : ℕ) → List ℕ → Bool
says_assignment n p [] = false
says_assignment n (suc p) (b ∷ t) = says_assignment n p t
says_assignment n zero (b ∷ t) =
    begins_assignment n (b ∷ t)
    || (begins_modifier (b ∷ t) && says_assignment n (word_length (b ∷ t) - 1) t)

-- whether a text begins with a `#`, with blanks, and then with such an assignment
abbrev pub says_after_mark : (name text : List ℕ) → Bool
says_after_mark n [] = false
says_after_mark n (b ∷ t) = (b == 35) && says_assignment n 0 (after_leading is_blank_byte t)

-- whether a line of this class is a comment
abbrev pub is_comment : Class Cell → Bool
is_comment Comment = true
is_comment k = false

-- whether a line is a comment that says an assignment of this name
abbrev pub says_name : List ℕ → ClassedLine → Bool
says_name n l = is_comment l.class && says_after_mark n (after_leading is_blank_byte l.bytes)

-- what makes a line such a comment: its first `#`, with the blanks directly after it
abbrev pub comment_mark : (line : List ℕ) → List ℕ
comment_mark l =
    let rest = after_leading is_blank_byte l in take 1 rest ++ leading is_blank_byte (drop 1 rest)
