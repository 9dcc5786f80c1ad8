-- Plans of edits of the words of a rule's line, by the pieces that they make of the line.
use Rattle.std.proofs.Common.{◌≡◌, refl, sym, ap, ◌∙◌, arith, ℕ, ◌+◌, List, [], ◌∷◌, ◌++◌, length, length-append, Some}
use Rattle.std.specs.Prelude.{Ok}
use Rattle.std.proofs.lemmas.List.{append-nil}
use Rattle.mk_lines.specs.PhysicalLines.{line_end, line_end_bytes}
use Rattle.mk_lines.specs.Lists.{concat}
use Rattle.mk_lines.specs.Cells.{Cell, raw_text}
use Rattle.mk_lines.specs.Pieces.{Replacement, Piece, Keep, Replace, old_bytes, new_bytes, old_cells, replacements}
use Rattle.mk_lines.proofs.on_lists.PieceLemmas.{raw_text-old_cells}
use Rattle.mk_class.specs.Headers
use Rattle.mk_class.specs.Headers.{header_units}
use Rattle.mk_class.specs.ClassedLines.{classed_lines}
use Rattle.mk_class.specs.declared.rule.Header as header
use Rattle.mk_tree.specs.Documents.{IsFaithful, text_of}
use Rattle.mk_tree.specs.LocatedLines.{LocatedLine, located_text}
use Rattle.mk_tree.specs.LineTexts.{StandingLine}
use Rattle.mk_edit_language.specs.Edits.{Edit}
use Rattle.mk_edit_language.specs.Lengths.{bytes_taken, bytes_put}
use Rattle.mk_edit_language.specs.Stretches.{this_line, touched_by}
use Rattle.mk_edit_language.specs.EditSpans.{spans_of}
use Rattle.mk_edit_language.specs.KeptLines.{respanned_bytes, edited_bytes}
use Rattle.mk_edit_language.specs.Refusals.{spans}
use Rattle.mk_edit_language.proofs.on_edits.EditedLineLemmas.{respanned-pieces}
use Rattle.mk_edit_parts.specs.SeenHeaders.{IsHeaderSeen}
use Rattle.mk_edit.proofs.on_plans.LinePlans.{IsReplaced, line-replaced}

-- An edit that makes these pieces of the line at a place, whose line end stays.
pub record IsWordEdit (e : Edit) (ls : List LocatedLine) (at : ℕ) (l : LocatedLine) (ps : List Piece) : Type 0 where
  pub spot : StandingLine
  pub place_is : length spot.above ≡ at
  pub touched_is : touched_by (classed_lines (located_text ls)) e ≡ Some (this_line spot)
  pub left_is : (rs : List Replacement) → edited_bytes (located_text ls) e (this_line spot) rs ≡ respanned_bytes (this_line spot) rs ∷ []
  pub spans_are : spans_of (located_text ls) (classed_lines (located_text ls)) e ≡ replacements (length (text_of spot.above)) ps
  pub whole : spot.line.bytes ≡ old_bytes ps ++ line_end_bytes (line_end l.bytes)

-- the line that the pieces make is what the edit leaves, where no cause holds
pub words-replaced : (e : Edit) (ls : List LocatedLine) (at : ℕ) (l : LocatedLine) (ps : List Piece) (m : List ℕ) → IsFaithful ls → IsWordEdit e ls at l ps
    → spans (located_text ls) e ≡ Ok (spans_of (located_text ls) (classed_lines (located_text ls)) e) → m ≡ new_bytes ps ++ line_end_bytes (line_end l.bytes) → IsReplaced e ls at m
words-replaced e ls at l ps m f W h k =
    let s = W.spot in
    let rs = spans_of (located_text ls) (classed_lines (located_text ls)) e in
    let E = line_end_bytes (line_end l.bytes) in
    let bytes : respanned_bytes (this_line s) rs ≡ m = ap (respanned_bytes (this_line s)) W.spans_are ∙ (respanned-pieces (this_line s) ps E (append-nil s.line.bytes ∙ W.whole) ∙ sym k) in
    line-replaced e ls rs s at m f h W.touched_is W.place_is (W.left_is rs ∙ ap (λ z. z ∷ []) bytes)

-- the old bytes of the pieces of a header's line are the line's
pub pieces-whole : (l : LocatedLine) (at : header.Header) (h : Headers.Header Cell) (ps : List Piece) → IsHeaderSeen l at h → old_cells ps ≡ concat (header_units h) → l.bytes ≡ old_bytes ps ++ line_end_bytes (line_end l.bytes)
pieces-whole l at h ps S k = S.whole ∙ ap (λ z. z ++ line_end_bytes (line_end l.bytes)) (sym (ap raw_text k) ∙ raw_text-old_cells ps)

-- ---- lengths

-- the bytes of pieces before and after
pub pieces-length : (at : ℕ) (ps : List Piece) → length (new_bytes ps) + bytes_taken (replacements at ps) ≡ length (old_bytes ps) + bytes_put (replacements at ps)
pieces-length at [] = refl
pieces-length at (Keep cs ∷ ps) =
    omega (arith, pieces-length (at + length (raw_text cs)) ps, length-append (raw_text cs) (new_bytes ps), length-append (raw_text cs) (old_bytes ps))
pieces-length at (Replace cs v ∷ ps) =
    omega (arith, pieces-length (at + length (raw_text cs)) ps, length-append v (new_bytes ps), length-append (raw_text cs) (old_bytes ps))

-- pieces whose new texts are all empty
abbrev pub PutNothing : List Piece → Type 0
PutNothing [] = Unit {0}
PutNothing (Keep cs ∷ ps) = PutNothing ps
PutNothing (Replace cs v ∷ ps) = (v ≡ []) × PutNothing ps

pub nothing-put : (at : ℕ) (ps : List Piece) → PutNothing ps → bytes_put (replacements at ps) ≡ 0
nothing-put at [] h = refl
nothing-put at (Keep cs ∷ ps) h = nothing-put (at + length (raw_text cs)) ps h
nothing-put at (Replace cs v ∷ ps) h = omega (arith, ap length h.0, nothing-put (at + length (raw_text cs)) ps h.1)

pub nothing-append : (ps qs : List Piece) → PutNothing ps → PutNothing qs → PutNothing (ps ++ qs)
nothing-append [] qs h k = k
nothing-append (Keep cs ∷ ps) qs h k = nothing-append ps qs h k
nothing-append (Replace cs v ∷ ps) qs h k = (h.0, nothing-append ps qs h.1 k)
