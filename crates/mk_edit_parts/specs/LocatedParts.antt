-- What walks over a document ask of a line, by the offsets of its parts: what it assigns, which
-- targets it has, whether it is a comment that says an assignment, and (in mk_tree) whether it sets the
-- recipe prefix in a way that is not read.
-- Told in docs/ARCHITECTURE.md, "An edit's way, from Edit to moved lines".
use Rattle.std.specs.Prelude.{ℕ, Bool, true, false, ◌&&◌, List, [], ◌∷◌}
use Rattle.std.specs.Str.{bytes_eq}
use Rattle.mk_lines.specs.Ranges.{text_at}
use Rattle.mk_lines.specs.Words.{words_in}
use Rattle.mk_lines.specs.Bytes.{is_blank_byte}
use Rattle.mk_lines.specs.Lists.{after_leading}
use Rattle.mk_class.specs.Texts.{is_one_of}
use Rattle.mk_class.specs.declared.class.Class as class
use Rattle.mk_class.specs.declared.class.Class.TheVariants as variants
use Rattle.mk_tree.specs.LocatedLines.{LocatedLine, text_of_line}
use Rattle.mk_edit_language.specs.Comments.{says_after_mark}
pub use Rattle.mk_tree.specs.UnreadPrefixes.{IsClassed, is_unread_in, is_unread_located}

-- each of some lines has the class that it has in some context
abbrev pub AreEachClassed : List LocatedLine → Type 0
AreEachClassed [] = Unit {0}
AreEachClassed (l ∷ ls) = IsClassed l × AreEachClassed ls

-- the words that stand before an offset in a text
abbrev pub words_before : (end : ℕ) → List ℕ → List (List ℕ)
words_before end t = words_in (text_at t (record { start = 0; end = end }))

-- whether a line of this joined text and class assigns the variable of this name
abbrev pub assigns_in : (text name : List ℕ) → class.Class → Bool
assigns_in t n (variants.Assign a p) = bytes_eq (text_at t a.name) n
assigns_in t n k = false

abbrev pub assigns_located : (name : List ℕ) → LocatedLine → Bool
assigns_located n l = assigns_in (text_of_line l) n l.class

-- whether a line of this joined text and class is an assignment that has this value
abbrev pub has_value_in : (text value : List ℕ) → class.Class → Bool
has_value_in t v (variants.Assign a p) = bytes_eq (text_at t a.value) v
has_value_in t v k = false

abbrev pub has_value_located : (value : List ℕ) → LocatedLine → Bool
has_value_located v l = has_value_in (text_of_line l) v l.class

-- whether a line is a comment that says an assignment of this name
abbrev pub is_comment_located : class.Class → Bool
is_comment_located variants.Comment = true
is_comment_located k = false

abbrev pub says_name_located : (name : List ℕ) → LocatedLine → Bool
says_name_located n l =
    is_comment_located l.class && says_after_mark n (after_leading is_blank_byte l.bytes)

-- whether a line of this joined text and class is the header of a rule for this target
abbrev pub is_rule_for_in : (text target : List ℕ) → class.Class → Bool
is_rule_for_in t g (variants.Header h) = is_one_of g (words_before h.targets_end t)
is_rule_for_in t g k = false

abbrev pub is_rule_for_located : (target : List ℕ) → LocatedLine → Bool
is_rule_for_located g l = is_rule_for_in (text_of_line l) g l.class

-- whether this word is a target of a line of this joined text and class
abbrev pub is_target_in : (text word : List ℕ) → class.Class → Bool
is_target_in t w (variants.Header h) = is_one_of w (words_before h.targets_end t)
is_target_in t w (variants.TargetAssign a) = is_one_of w (words_before a.targets_end t)
is_target_in t w k = false

abbrev pub is_target_located : (word : List ℕ) → LocatedLine → Bool
is_target_located w l = is_target_in (text_of_line l) w l.class
