-- Lines of assignments that become comments, and comments that become lines of assignments again: the
-- pieces of the line, and whether the new line reads so.
-- Told in docs/EDITS.md, "Variables".
use Rattle.std.specs.Prelude.{ℕ, Bool, false, not, ◌&&◌, List, [], ◌∷◌, map, length}
use Rattle.mk_lines.specs.Bytes.{is_blank_byte}
use Rattle.mk_lines.specs.Lists.{leading}
use Rattle.mk_lines.specs.Cells.{Byte}
use Rattle.mk_lines.specs.Pieces.{Replacement, replaced, Piece, Keep, Replace, replacements}
use Rattle.mk_class.specs.ClassTable.{class_of}
use Rattle.mk_class.specs.declared.context.RuleFlag.TheVariants.{Off}
use Rattle.mk_tree.specs.Documents.{text_of, context_of}
use Rattle.mk_tree.specs.Items.{Item, items_of_line}
use Rattle.mk_tree.specs.Leaning.{leans}
use Rattle.mk_tree.specs.LineTexts.{StandingLine}
use Rattle.mk_edit_language.specs.Edits.{Switch, CommentOut, Uncomment}
use Rattle.mk_edit_language.specs.Comments.{comment_mark}
use Rattle.mk_edit_language.specs.Addresses.{assigns}
use Rattle.mk_edit_language.specs.LineChanges.{fits_line}

-- the pieces at the front of the line
abbrev pub switch_pieces : Switch → (line : List ℕ) → List Piece
switch_pieces CommentOut l = Replace [] (35 ∷ []) ∷ []
switch_pieces Uncomment l =
    Keep (map Byte (leading is_blank_byte l)) ∷ Replace (map Byte (comment_mark l)) [] ∷ []

-- the spans in the line
abbrev pub switch_spans : Switch → StandingLine → List Replacement
switch_spans w s = replacements (length (text_of s.above)) (switch_pieces w s.line.bytes)

-- the line with its spans replaced
abbrev pub line_switched : Switch → (line : List ℕ) → List ℕ
line_switched w l = replaced 0 l (replacements 0 (switch_pieces w l))

-- whether the line that was a comment, in the context of the comment, does not read as an assignment
-- of the name
abbrev pub is_switch_misread : Switch → (name : List ℕ) → StandingLine → Bool
is_switch_misread CommentOut n s = false
is_switch_misread Uncomment n s =
    let m = line_switched Uncomment s.line.bytes in
    not (fits_line s.line.bytes m && assigns n (class_of (context_of s.above) m))

-- whether the lines below lean on two flags: the flag before the line, and the flag after the line of
-- an assignment
abbrev pub leans_on_assignment : StandingLine → Bool
leans_on_assignment s = leans (context_of s.above).prefix (context_of s.above).flag Off s.below

-- what the new line reads as in the context of the old one
abbrev pub switched_items : Switch → StandingLine → List Item
switched_items CommentOut s = []
switched_items Uncomment s =
    let m = line_switched Uncomment s.line.bytes in
    items_of_line (class_of (context_of s.above) m) m
