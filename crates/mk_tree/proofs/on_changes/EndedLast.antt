-- A last line that gets its line end, as a document changes it: other bytes of the same text for the last line.
use Rattle.std.proofs.Common.{◌≡◌, refl, sym, ap, ◌∙◌, ℕ, List, [], ◌∷◌, ◌++◌, true, false, cond}
use Rattle.mk_lines.specs.PhysicalLines.{line_end_bytes, without_line_end}
use Rattle.mk_lines.specs.LogicalLines.{has_no_line_end, is_open}
use Rattle.mk_lines.specs.declared.ends.End.{End}
use Rattle.mk_class.specs.ClassedLines.{ClassedLine, classed_lines}
use Rattle.mk_tree.specs.NewLineEnds.{lacks_line_end, with_line_end, line_ended, last_ended}
use Rattle.mk_tree.proofs.on_changes.NewLineLemmas.{last_ended-last, line-ended}
use Rattle.mk_tree.specs.LocatedLines.{located_line, located_lines, bytes_of_line, last_line, with_last_bytes}

-- the last line of a document, and the document with other bytes for it
pub located-last : (front : List ClassedLine) (l : ClassedLine) → bytes_of_line (last_line (located_lines (front ++ l ∷ []))) ≡ l.bytes
located-last [] l = refl
located-last (x ∷ []) l = refl
located-last (x ∷ y ∷ front) l = located-last (y ∷ front) l

located-with_last : (front : List ClassedLine) (l : ClassedLine) (bytes : List ℕ) → with_last_bytes bytes (located_lines (front ++ l ∷ [])) ≡ located_lines (front ++ record { bytes = bytes; class = l.class } ∷ [])
located-with_last [] l bytes = refl
located-with_last (x ∷ []) l bytes = refl
located-with_last (x ∷ y ∷ front) l bytes = ap (λ z. located_line x ∷ z) (located-with_last (y ∷ front) l bytes)

-- What is known of the last line of a text, which is not open and has no line end, and of a line end put after it.
pub record IsEndPut (t : List ℕ) (front : List ClassedLine) (l : ClassedLine) (e : End) : Type 0 where
  -- the lines with it are those with other bytes for the last
  pub lines : with_last_bytes (l.bytes ++ line_end_bytes e) (located_lines (front ++ l ∷ [])) ≡ located_lines (last_ended e (front ++ l ∷ []))
  -- which are of the same text
  pub same_text : without_line_end (l.bytes ++ line_end_bytes e) ≡ without_line_end (bytes_of_line (last_line (located_lines (front ++ l ∷ []))))

ended-is : (e : End) (l : ClassedLine) → lacks_line_end l ≡ true → line_ended e l ≡ with_line_end e l
ended-is e l h = ap (λ b. cond b (with_line_end e l) l) h

pub end-put : (t : List ℕ) (front : List ClassedLine) (l : ClassedLine) (e : End) → classed_lines t ≡ front ++ l ∷ [] → is_open l.bytes ≡ false → has_no_line_end e ≡ false → lacks_line_end l ≡ true → IsEndPut t front l e
end-put t front l e h o k n =
    let L = line-ended t front l e h o k in
    let bytes : without_line_end (line_ended e l).bytes ≡ without_line_end (l.bytes ++ line_end_bytes e) = ap (λ (z : ClassedLine). without_line_end z.bytes) (ended-is e l n) in
    record {
      lines = located-with_last front l (l.bytes ++ line_end_bytes e) ∙ ap (λ (z : List ClassedLine). located_lines z) (ap (λ (z : ClassedLine). front ++ z ∷ []) (sym (ended-is e l n)) ∙ sym (last_ended-last e front l));
      same_text = sym bytes ∙ (L.same_text ∙ ap without_line_end (sym (located-last front l)));
    }

-- a last line that has a line end stays, and so do the lines
pub ended-already : (front : List ClassedLine) (l : ClassedLine) (e : End) → lacks_line_end l ≡ false → last_ended e (front ++ l ∷ []) ≡ front ++ l ∷ []
ended-already front l e n = last_ended-last e front l ∙ ap (λ b. front ++ cond b (with_line_end e l) l ∷ []) n
