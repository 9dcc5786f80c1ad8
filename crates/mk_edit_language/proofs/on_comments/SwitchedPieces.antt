-- The pieces of a line that becomes a comment, or that was one, and what stands behind them: the line before, and the line after.
use Rattle.std.proofs.Common.{◌≡◌, refl, sym, ap, ◌∙◌, arith, ℕ, List, [], ◌++◌, map, append_assoc, length, length-append, take, drop, ◌+◌}
use Rattle.std.proofs.lemmas.List.{append-nil, take-append-drop}
use Rattle.mk_lines.specs.Bytes.{is_blank_byte}
use Rattle.mk_lines.specs.Lists.{leading, after_leading}
use Rattle.mk_lines.proofs.on_lists.ListLemmas.{leading-after_leading}
use Rattle.mk_lines.specs.Cells.{Byte, raw_text}
use Rattle.mk_lines.proofs.on_cells.CellLemmas.{raw_text-bytes}
use Rattle.mk_lines.specs.Pieces.{replaced, old_bytes, new_bytes, replacements}
use Rattle.mk_lines.proofs.on_lists.PieceLemmas.{replaced-pieces}
use Rattle.mk_edit_language.specs.Edits.{Switch, CommentOut, Uncomment}
use Rattle.mk_edit_language.specs.Comments.{comment_mark}
use Rattle.mk_edit_language.specs.SwitchedLines.{switch_pieces, line_switched}
use Rattle.mk_edit_language.specs.RisingSpans.{Rise}
use Rattle.mk_edit_language.proofs.on_edits.RisingSpanLemmas.{Rise-until, Rise-pieces}

-- what stands behind the pieces
abbrev pub switch_rest : Switch → (line : List ℕ) → List ℕ
switch_rest CommentOut l = l
switch_rest Uncomment l = after_leading is_blank_byte (drop 1 (after_leading is_blank_byte l))

pub switch-old : (w : Switch) (l : List ℕ) → old_bytes (switch_pieces w l) ++ switch_rest w l ≡ l
switch-old CommentOut l = refl
switch-old Uncomment l =
    let R = after_leading is_blank_byte l in
    let A = leading is_blank_byte l in
    let M = leading is_blank_byte (drop 1 R) in
    let Z = after_leading is_blank_byte (drop 1 R) in
    let bytes : raw_text (map Byte A) ++ (raw_text (map Byte (comment_mark l)) ++ []) ≡ A ++ (take 1 R ++ M) =
    ap (λ z. z ++ (raw_text (map Byte (comment_mark l)) ++ [])) (raw_text-bytes A) ∙ ap (λ z. A ++ z) (append-nil (raw_text (map Byte (comment_mark l))) ∙ raw_text-bytes (comment_mark l)) in
    ap (λ z. z ++ Z) bytes
    ∙ (append_assoc A (take 1 R ++ M) Z
    ∙ (ap (λ z. A ++ z) (append_assoc (take 1 R) M Z ∙ (ap (λ z. take 1 R ++ z) (leading-after_leading is_blank_byte (drop 1 R)) ∙ take-append-drop 1 R))
    ∙ leading-after_leading is_blank_byte l))

pub switch-new : (w : Switch) (l : List ℕ) → line_switched w l ≡ new_bytes (switch_pieces w l) ++ switch_rest w l
switch-new w l =
    let ps = switch_pieces w l in
    ap (λ z. replaced 0 z (replacements 0 ps)) (sym (switch-old w l)) ∙ replaced-pieces [] ps (switch_rest w l)

-- the spans rise within the line
pub switch-rises : (w : Switch) (at : ℕ) (l : List ℕ) → Rise at (at + length l) (replacements at (switch_pieces w l))
switch-rises w at l =
    let ps = switch_pieces w l in
    let whole : length l ≡ length (old_bytes ps) + length (switch_rest w l) = ap length (sym (switch-old w l)) ∙ length-append (old_bytes ps) (switch_rest w l) in
    Rise-until at (at + length (old_bytes ps)) (at + length l) (replacements at ps) (Rise-pieces at ps) (omega (arith, whole))
