-- The length of a text after a rename: what its spans take out and put in, line by line.
use Rattle.std.proofs.Common.{◌≡◌, refl, sym, ap, ◌∙◌, arith, ℕ, ◌+◌, ◌*◌, List, [], ◌∷◌, ◌++◌, length}
use Rattle.mk_lines.specs.Cells.{raw_text}
use Rattle.mk_lines.specs.Pieces.{Piece, Keep, Replace, Replacement, replacements}
use Rattle.mk_class.specs.Contexts.{Context, start, context_after}
use Rattle.mk_class.specs.ClassTable.{class_of}
use Rattle.mk_class.specs.ClassedLines.{ClassedLine, classed_lines}
use Rattle.mk_tree.specs.Documents.{IsFaithful}
use Rattle.mk_tree.specs.LocatedLines.{LocatedLine, located_line, located_lines, located_text}
use Rattle.mk_tree.proofs.on_documents.LinesInText.{AreClassed, AreClassed-class, AreClassed-tail, AreClassed-lines}
use Rattle.mk_edit_language.specs.Edits.{RenameTarget}
use Rattle.mk_edit_language.specs.Lengths.{bytes_taken, bytes_put}
use Rattle.mk_edit_language.specs.EditSpans.{renamed_spans, spans_of}
use Rattle.mk_edit_language.specs.WordPieces.{renamed_pieces}
use Rattle.mk_edit_parts.specs.RenamedRanges.{bytes_in, renamed_ranges}
use Rattle.mk_edit.specs.RenameTargetEffects.{replaced_bytes, replaced_words}
use Rattle.mk_edit_parts.proofs.on_renaming.LinePieces.{line-pieces}
use Rattle.mk_edit.proofs.on_renaming.SizesOfWords.{taken-replacing, put-replacing}

-- ---- some replacements, and then others

pub taken-append : (a b : List Replacement) → bytes_taken (a ++ b) ≡ bytes_taken a + bytes_taken b
taken-append [] b = omega arith
taken-append (r ∷ a) b = omega (arith, taken-append a b)

pub put-append : (a b : List Replacement) → bytes_put (a ++ b) ≡ bytes_put a + bytes_put b
put-append [] b = omega arith
put-append (r ∷ a) b = omega (arith, put-append a b)

-- ---- it is the same wherever the pieces begin

pub taken-moved : (at to : ℕ) (ps : List Piece) → bytes_taken (replacements at ps) ≡ bytes_taken (replacements to ps)
taken-moved at to [] = refl
taken-moved at to (Keep cs ∷ ps) = taken-moved (at + length (raw_text cs)) (to + length (raw_text cs)) ps
taken-moved at to (Replace cs v ∷ ps) = omega (arith, taken-moved (at + length (raw_text cs)) (to + length (raw_text cs)) ps)

pub put-moved : (at to : ℕ) (ps : List Piece) → bytes_put (replacements at ps) ≡ bytes_put (replacements to ps)
put-moved at to [] = refl
put-moved at to (Keep cs ∷ ps) = put-moved (at + length (raw_text cs)) (to + length (raw_text cs)) ps
put-moved at to (Replace cs v ∷ ps) = ap (λ z. length v + z) (put-moved (at + length (raw_text cs)) (to + length (raw_text cs)) ps)

-- ---- a line

line-taken : (c : Context) (l : ClassedLine) (o n : List ℕ) (at : ℕ) → class_of c l.bytes ≡ l.class → bytes_taken (replacements at (renamed_pieces o n l.class)) ≡ bytes_in (renamed_ranges o (located_line l))
line-taken c l o n at h =
    taken-moved at 0 (renamed_pieces o n l.class) ∙ (ap bytes_taken (sym (line-pieces c l o n h)) ∙ taken-replacing n (renamed_ranges o (located_line l)))

line-put : (c : Context) (l : ClassedLine) (o n : List ℕ) (at : ℕ) → class_of c l.bytes ≡ l.class → bytes_put (replacements at (renamed_pieces o n l.class)) ≡ length (renamed_ranges o (located_line l)) * length n
line-put c l o n at h =
    put-moved at 0 (renamed_pieces o n l.class) ∙ (ap bytes_put (sym (line-pieces c l o n h)) ∙ put-replacing n (renamed_ranges o (located_line l)))

-- ---- the lines of a text

lines-taken : (c : Context) (ls : List ClassedLine) (o n : List ℕ) (at : ℕ) → AreClassed c ls → bytes_taken (renamed_spans o n at ls) ≡ replaced_bytes o (located_lines ls)
lines-taken c [] o n at h = refl
lines-taken c (l ∷ ls) o n at h =
    let rs = renamed_spans o n (at + length l.bytes) ls in
    omega (arith, taken-append (replacements at (renamed_pieces o n l.class)) rs, line-taken c l o n at (AreClassed-class c l ls h), lines-taken (context_after c l.class) ls o n (at + length l.bytes) (AreClassed-tail c l ls h))

lines-put : (c : Context) (ls : List ClassedLine) (o n : List ℕ) (at : ℕ) → AreClassed c ls → bytes_put (renamed_spans o n at ls) ≡ replaced_words o (located_lines ls) * length n
lines-put c [] o n at h = omega arith
lines-put c (l ∷ ls) o n at h =
    let rs = renamed_spans o n (at + length l.bytes) ls in
    omega (arith, put-append (replacements at (renamed_pieces o n l.class)) rs, line-put c l o n at (AreClassed-class c l ls h), lines-put (context_after c l.class) ls o n (at + length l.bytes) (AreClassed-tail c l ls h))

-- The spans of a rename of a document take out the bytes of the words that it replaces, and put in the new word for each.
pub rename_target-taken : (ls : List LocatedLine) (o n : List ℕ) → IsFaithful ls → bytes_taken (spans_of (located_text ls) (classed_lines (located_text ls)) (RenameTarget o n)) ≡ replaced_bytes o ls
rename_target-taken ls o n h =
    let ds = classed_lines (located_text ls) in
    lines-taken start ds o n 0 (AreClassed-lines (located_text ls) ds refl) ∙ ap (replaced_bytes o) (sym h)

pub rename_target-put : (ls : List LocatedLine) (o n : List ℕ) → IsFaithful ls → bytes_put (spans_of (located_text ls) (classed_lines (located_text ls)) (RenameTarget o n)) ≡ replaced_words o ls * length n
rename_target-put ls o n h =
    let ds = classed_lines (located_text ls) in
    lines-put start ds o n 0 (AreClassed-lines (located_text ls) ds refl) ∙ ap (λ z. replaced_words o z * length n) (sym h)
