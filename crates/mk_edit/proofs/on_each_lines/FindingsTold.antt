-- What the walk over a document finds is what an edit of several lines does to the marked lines.
use Rattle.std.proofs.Common.{◌≡◌, refl, sym, ap, ◌∙◌, arith, ℕ, ◌+◌, ◌*◌, ◌-◌, ◌^◌, ◌≤◌, Bool, true, false, List, [], ◌∷◌, ◌++◌, length, filter}
use Rattle.std.specs.Prelude.{if◌then◌else◌, ◌||◌, min}
use Rattle.std.specs.List.{list_any}
use Rattle.std.proofs.Math.Bool.{or-false, or_assoc}
use Rattle.mk_lines.specs.Pieces.{replacements}
use Rattle.mk_class.specs.Contexts.{Context, context_after}
use Rattle.mk_tree.specs.LocatedLines.{LocatedLine, located_line, located_lines}
use Rattle.mk_tree.proofs.on_documents.LinesInText.{AreClassed, AreClassed-class, AreClassed-tail}
use Rattle.mk_edit_language.specs.EachLine.{EachChange, MarkedLine, each_change, is_each_changed, marked_pieces, marked_spans}
use Rattle.mk_edit_language.specs.Edits.{EachEdit}
use Rattle.mk_edit_language.specs.Lengths.{bytes_put, bytes_taken}
use Rattle.mk_edit_language.proofs.on_each_line.EachLineSpans.{unmarked}
use Rattle.mk_edit_parts.specs.EachLineWalks.{reach_along}
use Rattle.mk_edit_parts.specs.LocatedParts.{is_unread_located}
use Rattle.mk_edit.specs.EachLineSurveys.{IsOfLines, found_by, found_with, places_meant}
use Rattle.mk_edit.specs.declared.each_line_survey.Findings.{Findings}
use Rattle.mk_edit.proofs.on_renaming.SizesOfTexts.{put-append, put-moved, taken-append, taken-moved}
use Rattle.mk_edit.proofs.on_each_lines.NotesTold.{AreSeen, line-told, seen-first, seen-rest}

-- what does not depend on the edit's lines
pub found-unread : (e : EachEdit) (f : Findings) (ls : List LocatedLine) → (found_with e f ls).has_unread_prefix ≡ (f.has_unread_prefix || list_any is_unread_located ls)
found-unread e f [] = sym (or-false f.has_unread_prefix)
found-unread e f (l ∷ ls) = found-unread e (found_by e l (places_meant e f.reach l) f) ls ∙ or_assoc f.has_unread_prefix (is_unread_located l) (list_any is_unread_located ls)

pub found-reach : (e : EachEdit) (f : Findings) (ls : List LocatedLine) → (found_with e f ls).reach ≡ reach_along e f.reach ls
found-reach e f [] = refl
found-reach e f (l ∷ ls) = found-reach e (found_by e l (places_meant e f.reach l) f) ls

-- numbers that are capped, one after the other
capped : (a b p n m : ℕ) → n ≡ min (min (a + min b m) m + p) m → n ≡ min (a + (b + p)) m
capped a b p n m h = omega (arith, h)

-- what is found of some marked lines
pub record AreFound (e : EachEdit) (f : Findings) (ms : List MarkedLine) : Type 0 where
  pub lines : (found_with e f (located_lines (unmarked ms))).lines ≡ f.lines + length (filter (is_each_changed (each_change e)) ms)
  pub taken : (at : ℕ) → (found_with e f (located_lines (unmarked ms))).taken ≡ f.taken + bytes_taken (marked_spans (each_change e) at ms)
  pub put : (at : ℕ) → f.put ≤ 2 ^ 64 - 1 → (found_with e f (located_lines (unmarked ms))).put ≡ min (f.put + bytes_put (marked_spans (each_change e) at ms)) (2 ^ 64 - 1)

module _ (e : EachEdit) (o : IsOfLines e) where
  abbrev c : EachChange
  c = each_change e

  pub lines-found : (f : Findings) (x : Context) (ms : List MarkedLine) → AreClassed x (unmarked ms) → AreSeen e o f.reach ms → AreFound e f ms
  lines-found f x [] A s = record { lines = omega arith; taken = λ at. omega arith; put = λ at few. omega (arith, few) }
  lines-found f x (m ∷ ms) A s =
      let l = located_line m.line in
      let q = places_meant e f.reach l in
      let g = found_by e l q f in
      let T = line-told e o f.reach x m (AreClassed-class x m.line (unmarked ms) A) (seen-first e o f.reach m ms s) in
      let R = lines-found g (context_after x m.line.class) ms (AreClassed-tail x m.line (unmarked ms) A) (seen-rest e o f.reach m ms s) in
      record {
        lines = R.lines ∙ (ap (λ b. (if b then f.lines + 1 else f.lines) + length (filter (is_each_changed c) ms)) T.changed ∙ one (is_each_changed c m));
        taken = λ at.
            let here = replacements at (marked_pieces c m) in
            let rest = marked_spans c (at + length m.line.bytes) ms in
            omega (arith, R.taken (at + length m.line.bytes), taken-append here rest, taken-moved at 0 (marked_pieces c m), T.taken);
        put = λ at few.
            let here = replacements at (marked_pieces c m) in
            let rest = marked_spans c (at + length m.line.bytes) ms in
            let some : bytes_put (here ++ rest) ≡ q.count * q.new + bytes_put rest = put-append here rest ∙ ap (λ z. z + bytes_put rest) (put-moved at 0 (marked_pieces c m) ∙ T.put) in
            capped f.put (q.count * q.new) (bytes_put rest) _ (2 ^ 64 - 1) (R.put (at + length m.line.bytes) (omega arith)) ∙ ap (λ z. min (f.put + z) (2 ^ 64 - 1)) (sym some);
      }
    where
      one : (b : Bool) → (if b then f.lines + 1 else f.lines) + length (filter (is_each_changed c) ms) ≡ f.lines + length (if b then m ∷ filter (is_each_changed c) ms else filter (is_each_changed c) ms)
      one true = omega arith
      one false = omega arith
