-- A rename leaves the lines that hold no word which it replaces, and makes each other line in its place.
use Rattle.std.proofs.Common.{◌≡◌, refl, sym, ap, ◌∙◌, ℕ, List, [], ◌∷◌, ◌++◌, map, true, false, length, ◌+◌}
use Rattle.std.specs.List.{list_any}
use Rattle.std.specs.Prelude.{Ok}
use Rattle.mk_lines.specs.Cells.{Cell, raw_text}
use Rattle.mk_lines.specs.Pieces.{Replacement, Piece, Keep, Replace, old_bytes, replacements, replaced}
use Rattle.mk_class.specs.Classes.{Class, is_conditional}
use Rattle.mk_class.specs.Contexts.{Context, start, context_after}
use Rattle.mk_class.specs.ClassTable.{class_of}
use Rattle.mk_class.specs.ClassedLines.{ClassedLine, classed_lines}
use Rattle.mk_tree.proofs.on_documents.LinesInText.{bytes_of}
use Rattle.mk_tree.proofs.on_changes.SpansInLines.{after_pieces, BeginWithPieces}
use Rattle.mk_tree.specs.EachReplaced.{ReplaceEach}
use Rattle.mk_tree.proofs.on_changes.EachReplacedLemmas.{lines-in_place, with_pieces}
use Rattle.mk_edit_language.specs.Edits.{RenameTarget}
use Rattle.mk_edit_language.specs.WordPieces.{is_replaced, renamed_pieces}
use Rattle.mk_edit_language.specs.EditSpans.{renamed_line_spans}
use Rattle.mk_edit_language.specs.Costs.{is_renamed}
use Rattle.mk_edit_language.specs.Refusals.{spans, text_by}
use Rattle.mk_edit_language.proofs.on_edits.Accepted.{accepted, where_holds-none}
use Rattle.mk_edit_language.proofs.on_edits.LineSpansRise.{rise-renamed}
use Rattle.mk_edit_language.proofs.on_edits.KeptApartLemmas.{lines-kept}
use Rattle.mk_edit_language.proofs.on_renames.RenamedTexts.{renamed_class, lines-renamed, line_pieces, line_class}
use Rattle.mk_edit_language.proofs.on_renames.RenameTargetLemmas.{rename_target-words}
use Rattle.mk_edit_language.specs.LinesInPlace.{renamed_bytes, IsLineRenamed, AreLinesRenamedInPlace, AreOthersKeptByRenameTarget}
use Rattle.mk_edit_language.proofs.on_renames.RenamedHeaders.{none-replaced}

-- ---- pieces of which none is replaced

pub unreplaced-spans : (at : ℕ) (ps : List Piece) → list_any is_replaced ps ≡ false → replacements at ps ≡ []
unreplaced-spans at [] h = refl
unreplaced-spans at (Keep cs ∷ ps) h = unreplaced-spans (at + length (raw_text cs)) ps h
unreplaced-spans at (Replace cs v ∷ ps) h = cc

-- ---- classes, contexts and lines

same-line : (l : ClassedLine) (m : List ℕ) (k : Class Cell) → m ≡ l.bytes → k ≡ l.class → record { bytes = m; class = k } ≡ l
same-line l m k h q =
    let f : List ℕ → Class Cell → ClassedLine = λ b c. record { bytes = b; class = c } in
    ap (λ z. f z k) h ∙ ap (f l.bytes) q

-- a class with a word to rename is of no conditional, and neither is the class after the rename
renamed-plain : (o n : List ℕ) (k : Class Cell) → list_any is_replaced (renamed_pieces o n k) ≡ true → (is_conditional k ≡ false) × (is_conditional (renamed_class o n k) ≡ false)
renamed-plain o n (Class.Header h) e = (refl, refl)
renamed-plain o n (Class.TargetAssign a) e = (refl, refl)
renamed-plain o n Class.If e = absurd (cc)
renamed-plain o n Class.Else e = absurd (cc)
renamed-plain o n Class.Endif e = absurd (cc)
renamed-plain o n Class.Endef e = (refl, refl)
renamed-plain o n (Class.Body d) e = (refl, refl)
renamed-plain o n Class.Recipe e = (refl, refl)
renamed-plain o n Class.Opaque e = (refl, refl)
renamed-plain o n Class.Blank e = (refl, refl)
renamed-plain o n Class.Comment e = (refl, refl)
renamed-plain o n (Class.Assign a p) e = (refl, refl)
renamed-plain o n (Class.DefineHead p) e = (refl, refl)
renamed-plain o n Class.Directive e = (refl, refl)
renamed-plain o n Class.Rough e = (refl, refl)

-- ---- lines

module _ (o n : List ℕ) where
  -- the bytes of renamed lines
  bytes_of-renamed : (ls : List ClassedLine) → bytes_of (map (with_pieces (line_pieces o n) (line_class o n)) ls) ≡ map (renamed_bytes o n) ls
  bytes_of-renamed [] = refl
  bytes_of-renamed (l ∷ ls) = ap (λ z. renamed_bytes o n l ∷ z) (bytes_of-renamed ls)

  -- a line without word to rename keeps its bytes
  renamed-same : (l : ClassedLine) → l.bytes ≡ old_bytes (line_pieces o n l) ++ after_pieces (line_pieces o n) l → list_any is_replaced (line_pieces o n l) ≡ false → renamed_bytes o n l ≡ l.bytes
  renamed-same l b h = ap (λ x. x ++ after_pieces (line_pieces o n) l) (none-replaced (line_pieces o n l) h) ∙ sym b

  -- lines that can stand in the place of others stand there after the rename
  renamed-in_place : (c : Context) (ls : List ClassedLine) → BeginWithPieces (line_pieces o n) ls → ReplaceEach c ls (map (with_pieces (line_pieces o n) (line_class o n)) ls) [] → ReplaceEach c ls ls []
      → AreLinesRenamedInPlace o n c ls (map (with_pieces (line_pieces o n) (line_class o n)) ls)
  renamed-in_place c [] b r s = tt
  renamed-in_place c (l ∷ ls) b r s = (
    record {
      rest = after_pieces (line_pieces o n) l;
      old_line = b.0;
      new_line = refl;
      in_place = record {
        one_line = r.0.one;
        class = r.0.class;
        context_stays = r.0.context;
        same = λ z.
            let e = renamed-same l b.0 z in
            same-line l (renamed_bytes o n l) (line_class o n l) e (sym r.0.class ∙ (ap (class_of c) e ∙ s.0.class));
        plain = renamed-plain o n l.class;
      };
    },
    renamed-in_place (context_after c l.class) ls b.1 r.1 s.1,
  )

-- ---- the law

pub rename_target-keeps : (o n t : List ℕ) (rs : List Replacement) → spans t (RenameTarget o n) ≡ Ok rs → AreOthersKeptByRenameTarget o n t rs
rename_target-keeps o n t rs h =
    let ls = classed_lines t in
    let e = RenameTarget o n in
    let A = accepted t e rs h in
    let W = rename_target-words o n t rs h in
    let L = lines-renamed o n W.new W.renamed t (where_holds-none _ _ A.well_placed) in
    lines-kept t e rs (is_renamed o n) (renamed_line_spans o n) (renamed_bytes o n) (IsLineRenamed o n) (map (with_pieces (line_pieces o n) (line_class o n)) ls) h (λ x l m r. r.in_place) (rise-renamed o n)
    (λ at l z. unreplaced-spans at (renamed_pieces o n l.class) z) refl refl
    (record {
      are = ap (λ q. classed_lines (text_by t q)) h ∙ (ap (λ q. classed_lines (replaced 0 t q)) (sym A.spans_are) ∙ L.lines);
      bytes = bytes_of-renamed o n ls;
      in_place = renamed-in_place o n start ls L.begin L.each (lines-in_place t);
      each = L.each;
    })
