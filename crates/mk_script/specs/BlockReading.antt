-- How blocks over several lines are read: the fields of a line take their lines from those below it.
-- Told in docs/ARCHITECTURE.md, "From a script to a text".
use Rattle.std.specs.Prelude.{ℕ, ◌+◌, ◌-◌, Bool, true, false, nat_lt, if◌then◌else◌, List, [], ◌∷◌, map, Option, Some, None, option_map, option_and_then}
use Rattle.std.specs.Str.{bytes_eq}
use Rattle.mk_script.specs.Fields.{Field, text}
use Rattle.mk_script.specs.Blocks.{end_word, block_text}
use Rattle.mk_script.specs.Lines.{Saying}
use Rattle.mk_script.specs.WordReading.{named, places}
use Rattle.mk_script.specs.FieldReading.{fields_within}
use Rattle.mk_script.specs.CommandReading.{Texts, worded, saying_in}
use Rattle.mk_script.specs.declared.table.Word.{Word}
use Rattle.mk_script.specs.declared.table.Word.TheVariants as word
use Rattle.mk_script.specs.declared.word.PlaceWord.{PlaceWord}
use Rattle.mk_script.specs.declared.word.PlaceWord.TheVariants as place

-- ---- a block

-- the lines before the first that is this word, and those behind it
abbrev pub until_word : (word : List ℕ) → List (List ℕ) → Option (List (List ℕ) × List (List ℕ))
until_word word [] = None
until_word word (line ∷ lines) =
    if bytes_eq line word
    then Some ([], lines)
    else option_map (λ (p : List (List ℕ) × List (List ℕ)). (line ∷ p.0, p.1)) (until_word word lines)

-- the text of one or more lines, and those behind them
abbrev pub some_block : List (List ℕ) × List (List ℕ) → Option (List ℕ × List (List ℕ))
some_block ([], rest) = None
some_block (line ∷ lines, rest) = Some (block_text (line ∷ lines), rest)

-- the text of a field that may have a block below it, and the lines that are left
abbrev pub filled_by : (end_word : Option (List ℕ)) → Field → (below : List (List ℕ))
    → Option (List ℕ × List (List ℕ))
filled_by None field below = Some (text field, below)
filled_by (Some word) field below = option_and_then some_block (until_word word below)

-- the text of a field, which may have a block below it if it is not plain; and the lines that are left
abbrev pub filled_field : (is_plain : Bool) → Field → (below : List (List ℕ))
    → Option (List ℕ × List (List ℕ))
filled_field true field below = Some (text field, below)
filled_field false field below = filled_by (end_word field) field below

-- ---- the fields of a line

-- a text before others
abbrev pub put_text : List ℕ → Option (Texts × List (List ℕ)) → Option (Texts × List (List ℕ))
put_text t None = None
put_text t (Some q) = Some (t ∷ q.0, q.1)

-- the texts of fields, of which so many are plain, and the lines that are left
abbrev pub filled_fields : (plain : ℕ) → List Field → (below : List (List ℕ))
    → Option (Texts × List (List ℕ))
filled_fields n [] below = Some ([], below)
filled_fields n (f ∷ fields) below =
    option_and_then
    (λ (p : List ℕ × List (List ℕ)). put_text p.0 (filled_fields (n - 1) fields p.1))
    (filled_field (nat_lt 0 n) f below)

-- how many fields of `insert` stand before those that may have blocks, by its place
abbrev pub plain_at : Option PlaceWord → ℕ
plain_at (Some place.Top) = 1
plain_at (Some place.Bottom) = 1
plain_at (Some place.BeforeLine) = 1
plain_at (Some place.AfterLine) = 1
plain_at (Some w) = 2
plain_at None = 9

abbrev pub plain_in_place : Texts → ℕ
plain_in_place [] = 9
plain_in_place (place ∷ fields) = plain_at (named places place)

-- the same of the fields behind the word of a command; 9, which are all, if it has no blocks
abbrev pub plain_behind : Word → Texts → ℕ
plain_behind word.Insert fields = plain_in_place fields
plain_behind word.LineReplace fields = 0
plain_behind word.LineRemove fields = 0
plain_behind word.RuleReplace fields = 1
plain_behind w fields = 9

-- the same of a word and the fields behind it
abbrev pub plain_with : (behind : Word → Texts → ℕ) → Option (Word × Texts) → ℕ
plain_with behind None = 9
plain_with behind (Some p) = 1 + behind p.0 p.1

-- behind a word that may be `nth`, and behind one that may be `try` or `or` too
abbrev pub plain_behind_nth : Word → Texts → ℕ
plain_behind_nth word.Nth (number ∷ fields) = 1 + plain_with plain_behind (worded fields)
plain_behind_nth w fields = plain_behind w fields

abbrev pub plain_behind_try : Word → Texts → ℕ
plain_behind_try word.Try fields = plain_with plain_behind_nth (worded fields)
plain_behind_try word.Or fields = plain_with plain_behind_nth (worded fields)
plain_behind_try w fields = plain_behind_nth w fields

-- of a command; of an edit, before which `nth` may stand; and of a line
abbrev pub plain_of_command : Texts → ℕ
plain_of_command fields = plain_with plain_behind (worded fields)

abbrev pub plain_of_edit : Texts → ℕ
plain_of_edit fields = plain_with plain_behind_nth (worded fields)

abbrev pub plain_fields : Texts → ℕ
plain_fields fields = plain_with plain_behind_try (worded fields)

-- ---- what a line says

-- the texts of the fields of a line, and the lines that are left below its blocks. No command has more
-- than nine fields.
abbrev pub texts_below : List Field → (below : List (List ℕ)) → Option (Texts × List (List ℕ))
texts_below fields below = filled_fields (plain_fields (map text fields)) fields below

abbrev pub texts_of_line : (line : List ℕ) → (below : List (List ℕ)) → Option (Texts × List (List ℕ))
texts_of_line line below =
    option_and_then (λ (fields : List Field). texts_below fields below) (fields_within 9 line)

-- what these texts say, with the lines that are left
abbrev pub said_from : Texts × List (List ℕ) → Option (Saying × List (List ℕ))
said_from p = option_map (λ (x : Saying). (x, p.1)) (saying_in p.0)

-- what a line that is not skipped says with these lines below it, and the lines that are left
abbrev pub saying : (line : List ℕ) → (below : List (List ℕ)) → Option (Saying × List (List ℕ))
saying line below = option_and_then said_from (texts_of_line line below)
