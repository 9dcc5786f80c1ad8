-- The words that end the blocks of a line.
-- Told in docs/EDITS.md, "The script".
use Rattle.std.specs.Prelude.{ℕ, ◌-◌, Bool, true, false, nat_lt, List, [], ◌∷◌, map, Option, Some, None, option_and_then}
use Rattle.std.specs.List.{cons_option}
use Rattle.mk_script.specs.Fields.{Field, text}
use Rattle.mk_script.specs.Blocks.{end_word}
use Rattle.mk_script.specs.BlockReading.{until_word, plain_fields}
use Rattle.mk_script.specs.FieldReading.{fields_within}

-- the word of a field that may have a block if it is not plain
abbrev pub word_of : (is_plain : Bool) → Field → Option (List ℕ)
word_of true field = None
word_of false field = end_word field

-- the words of the blocks of fields, of which so many are plain
abbrev pub words_among : (plain : ℕ) → List Field → List (List ℕ)
words_among n [] = []
words_among n (f ∷ fields) = cons_option (word_of (nat_lt 0 n) f) (words_among (n - 1) fields)

abbrev pub words_of : Option (List Field) → List (List ℕ)
words_of None = []
words_of (Some fields) = words_among (plain_fields (map text fields)) fields

-- The words of the blocks of a line, in the order of its fields. The lines of the blocks stand below it, up
-- to each of these words in turn.
abbrev pub block_words : (line : List ℕ) → List (List ℕ)
block_words line = words_of (fields_within 9 line)

-- the lines behind those up to each of these words in turn
abbrev pub behind_words : (words : List (List ℕ)) → (below : List (List ℕ)) → Option (List (List ℕ))
behind_words [] below = Some below
behind_words (word ∷ words) below =
    option_and_then (λ (p : List (List ℕ) × List (List ℕ)). behind_words words p.1) (until_word word below)
