-- The words of a script, in tables.
-- Told in docs/ARCHITECTURE.md, "From a script to a text".
use Rattle.std.specs.Prelude.{ℕ, if◌then◌else◌, List, [], ◌∷◌, take, map, Option, Some, None}
use Rattle.std.specs.Str.{bytes_eq}
use Rattle.mk_class.specs.declared.assignment.Flavor.{Flavor}
use Rattle.mk_edit_language.specs.declared.edit.RuleSeparator.{RuleSeparator}
use Rattle.mk_script.specs.FieldReading.{bare_len}
use Rattle.mk_script.specs.declared.table.Word.{Word}
use Rattle.mk_script.specs.declared.table.TheConstants.{COMMANDS}
use Rattle.mk_script.specs.declared.word.PlaceWord.{PlaceWord}
use Rattle.mk_script.specs.declared.word.TheConstants.{PLACES, OPERATORS, SEPARATORS}

-- what the first pair of a table with this text has
abbrev pub named : {K : Type 0} → List (K × List ℕ) → List ℕ → Option K
named [] text = None
named (entry ∷ table) text = if bytes_eq text entry.1 then Some entry.0 else named table text

-- the word of a command, with which its form begins
abbrev pub word_text : (form : List ℕ) → List ℕ
word_text form = take (bare_len form) form

abbrev pub words : List (Word × List ℕ)
words = map (λ row. (row.2, word_text row.0.now)) COMMANDS

abbrev pub places : List (PlaceWord × List ℕ)
places = map (λ row. (row.0, row.1.now)) PLACES

abbrev pub operators : List (Flavor × List ℕ)
operators = map (λ row. (row.0, row.1.now)) OPERATORS

abbrev pub separators : List (RuleSeparator × List ℕ)
separators = map (λ row. (row.0, row.1.now)) SEPARATORS
