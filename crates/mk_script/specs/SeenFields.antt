-- What contracts see of the fields that the code finds in a line: their bytes.
-- Told in docs/ARCHITECTURE.md, "From a script to a text".
use Rattle.std.specs.Prelude.{◌≡◌, ◌⊎◌, ℕ, Bool, true, false, ◌==◌, ◌||◌, List, map, take}
use Rattle.std.specs.List.{list_any}
use Rattle.std.specs.Borrow.{Bor}
use Rattle.arrayvec.specs.ArrayVec.{ArrayVec}
use Rattle.mk_script.specs.Fields.{Field, Bare, Quoted, text, is_special}
use Rattle.mk_script.specs.Blocks.{block_text}
use Rattle.mk_script.specs.Lines.{script_lines}
use Rattle.mk_script.specs.FieldReading.{unescaped}
use Rattle.mk_script.specs.declared.field.Field as code
use Rattle.mk_script.specs.declared.field.Form.TheVariants as form
use Rattle.mk_script.specs.declared.table.Word.{Word}

-- A field as the definitions see it. The lines of a block stand there as a field between quotes would.
abbrev pub seen : code.Field → Field
seen f = elim f.form [
  | form.Bare ↦ Bare f.written.now
  | form.Quoted ↦ Quoted (unescaped false f.written.now)
  | form.Lines count ↦ Quoted (block_text (take count (script_lines f.written.now)))
]

-- a text in memory
abbrev pub bytes : Bor (List ℕ) → List ℕ
bytes t = t.now

-- the text of a field
abbrev pub field_text : code.Field → List ℕ
field_text f = text (seen f)

-- fields
abbrev pub field_texts : List code.Field → List (List ℕ)
field_texts fields = map field_text fields

-- fields that were gathered, and their texts
abbrev pub gathered : ArrayVec code.Field → List Field
gathered fields = map seen fields.items

abbrev pub gathered_texts : ArrayVec code.Field → List (List ℕ)
gathered_texts fields = field_texts fields.items

-- a field and what follows it; a field, or a word, and the fields behind it
abbrev pub field_and_rest : code.Field × Bor (List ℕ) → Field × List ℕ
field_and_rest p = (seen p.0, p.1.now)

abbrev pub field_and_others : code.Field × Bor (List code.Field) → List ℕ × List (List ℕ)
field_and_others p = (field_text p.0, field_texts p.1.now)

abbrev pub word_and_others : Word × Bor (List code.Field) → Word × List (List ℕ)
word_and_others p = (p.0, field_texts p.1.now)

-- two fields; three fields
abbrev pub two_texts : code.Field × code.Field → List ℕ × List ℕ
two_texts p = (field_text p.0, field_text p.1)

abbrev pub three_texts : code.Field × code.Field × code.Field → List ℕ × List ℕ × List ℕ
three_texts p = (field_text p.0, field_text p.1, field_text p.2)

-- two texts in the line
abbrev pub two_parts : Bor (List ℕ) × Bor (List ℕ) → List ℕ × List ℕ
two_parts p = (p.0.now, p.1.now)

-- no word of a table and no number has this byte: a quote, a backslash or a line feed
abbrev pub is_of_no_word : ℕ → Bool
is_of_no_word b = is_special b || b == 10

-- a field is written as it is, or both it and what is written have a byte that no word and no number has
abbrev pub IsWrittenPlain : (field written : List ℕ) → Type 0
IsWrittenPlain field written =
    (written ≡ field)
    ⊎ ((list_any is_of_no_word field ≡ true) × (list_any is_of_no_word written ≡ true))
