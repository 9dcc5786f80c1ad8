-- Fields and commands have lines.
use Rattle.std.proofs.Common.{◌≡◌, ℕ, List, [], ◌∷◌, map, refl, sym, ap, ◌∙◌, codes}
use Rattle.mk_edit_language.specs.Edits.{Edit}
use Rattle.mk_edit_language.specs.LineRuns.{block_lines}
use Rattle.mk_history.specs.Machine.{Command, Apply}
use Rattle.mk_script.specs.Fields.{Field, Quoted, quoted, HasFields}
use Rattle.mk_script.specs.Blocks.{block_text}
use Rattle.mk_script.specs.CommandTable.{Content, Text, Number, Block, command_fields, HaveContents}
use Rattle.mk_script.specs.Lines.{HasCommand, Plain, Try, Or, HasEditAfter}
use Rattle.mk_script.specs.ScriptLaws.{line_of, CanBeWritten, WrittenFieldsAreRead, EachSayingHasALine}
use Rattle.mk_script.specs.WrittenEdits.{content_text}
use Rattle.mk_script.proofs.on_fields.NumberLemmas.{decimal-number}
use Rattle.mk_script.proofs.on_commands.BlockLemmas.{block-text}

-- ---- fields

-- a space before a line
space-before : (line : List ℕ) (fields : List Field) → HasFields line fields → HasFields (32 ∷ line) fields
space-before line [] h = (refl, h)
space-before line (f ∷ fs) h = (
  h.0,
  record {
    blanks = 32 ∷ h.1.blanks;
    written = h.1.written;
    are_blanks = (refl, h.1.are_blanks);
    is_written = h.1.is_written;
    ends = h.1.ends;
    line_is = ap (λ t. 32 ∷ t) h.1.line_is;
  },
  h.2,
)

pub written-read : WrittenFieldsAreRead
written-read [] = tt
written-read (f ∷ fs) = (
  32 ∷ line_of fs,
  record { blanks = []; written = quoted f; are_blanks = tt; is_written = refl; ends = refl; line_is = refl },
  space-before (line_of fs) (map Quoted fs) (written-read fs),
)

-- ---- commands

-- the text of a block has its lines
pub block-had : (lines : List (List ℕ)) → (t : List ℕ) × (block_lines t ≡ lines) → block_lines (block_text lines) ≡ lines
block-had lines h = ap (λ ls. block_lines (block_text ls)) (sym h.1) ∙ (ap block_lines (block-text h.0) ∙ h.1)

contents-had : (contents : List Content) → CanBeWritten contents → HaveContents (map Quoted (map content_text contents)) [] contents
contents-had [] h = refl
contents-had (Text t ∷ contents) h = ([], [], refl, (refl, refl), contents-had contents h)
contents-had (Number n ∷ contents) h = ([], [], refl, (refl, decimal-number n h.0), contents-had contents h.1)
contents-had (Block lines ∷ contents) h = ([], [], refl, (block_text lines, (refl, refl), block-had lines h.0), contents-had contents h.1)

command-line : (c : Command Edit) → CanBeWritten (command_fields c) → (line : List ℕ) × HasCommand line [] c
command-line c h =
    let fields = map content_text (command_fields c) in
    (line_of fields, (map Quoted fields, written-read fields, contents-had (command_fields c) h))

-- an edit's command after a word
after-line : (word : List ℕ) (e : Edit) → CanBeWritten (command_fields (Apply e)) → (line : List ℕ) × HasEditAfter word line [] e
after-line word e h =
    let fields = map content_text (command_fields (Apply e)) in
    (line_of (word ∷ fields), (Quoted word, map Quoted fields, refl, written-read (word ∷ fields), contents-had (command_fields (Apply e)) h))

pub saying-line : EachSayingHasALine
saying-line (Plain c) h = command-line c h
saying-line (Try e) h = after-line (codes "try") e h
saying-line (Or e) h = after-line (codes "or") e h
