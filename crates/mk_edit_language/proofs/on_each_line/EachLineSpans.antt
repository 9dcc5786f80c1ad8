-- The pieces of a line in an edit of several lines: their spans rise within the line, and the line with them replaced does not depend
-- on the offset where it begins.
use Rattle.std.proofs.Common.{◌≡◌, refl, sym, ap, ◌∙◌, subst, arith, ℕ, List, [], ◌∷◌, ◌++◌, map, Bool, true, false, cond, length, length-append, take, ◌+◌, ◌≤◌, None, Some}
use Rattle.std.proofs.lemmas.List.{append-nil, length-drop}
use Rattle.mk_lines.specs.PhysicalLines.{line_end, line_end_bytes, without_line_end}
use Rattle.mk_lines.specs.Cells.{Cell, Byte, raw_text}
use Rattle.mk_lines.specs.Pieces.{Piece, replacements, replaced}
use Rattle.mk_lines.proofs.on_lines.LineEndLemmas.{without_line_end-line_end}
use Rattle.mk_lines.proofs.on_cells.CellLemmas.{raw_text-append, raw_text-bytes}
use Rattle.mk_class.specs.Assignments.{Assignment}
use Rattle.mk_class.specs.PartOffsets.{raw_width}
use Rattle.mk_class.specs.Classes.{Class, is_recipe}
use Rattle.mk_class.specs.Classes.Class.{Endef, Body, Recipe, Opaque, Blank, Comment, Assign, DefineHead, If, Else, Endif, Directive, TargetAssign, Rough, Header}
use Rattle.mk_class.specs.Contexts.{Context, start, context_after}
use Rattle.mk_class.specs.ClassTable.{class_of}
use Rattle.mk_class.specs.ClassedLines.{ClassedLine, classed_lines}
use Rattle.mk_tree.specs.Documents.{text_of}
use Rattle.mk_tree.specs.LineTexts.{StandingLine}
use Rattle.mk_tree.proofs.on_documents.LinesInText.{AreClassed, AreClassed-class, AreClassed-tail, AreClassed-lines}
use Rattle.mk_tree.proofs.on_documents.DocumentLemmas.{text_of-classed_lines}
use Rattle.mk_class.specs.declared.assignment.Flavor.TheVariants.{Recursive}
use Rattle.mk_tree.specs.Items.{Assigned}
use Rattle.mk_edit_language.specs.Edits.{LineChange, Substitute, EachEdit}
use Rattle.mk_edit_language.specs.LineChanges.{substituted, line_pieces, reads_as}
use Rattle.mk_edit_language.specs.EachLine.{EachChange, InAssignment, InRecipe, MarkedLine, lines_meant, marked_by, marked, each_change, assignment_pieces, recipe_text, recipe_pieces, change_pieces, marked_pieces, marked_spans}
use Rattle.mk_edit_language.specs.RisingSpans.{Rise}
use Rattle.mk_edit_language.proofs.on_edits.LineSpansRise.{line_change-rises}
use Rattle.mk_edit_language.proofs.on_edits.RisingSpanLemmas.{Rise-append}
use Rattle.mk_edit_language.proofs.on_lines.ClassParts.{part_units, parts-within}
use Rattle.mk_edit_language.proofs.on_changes.SpansShifted.{replaced-shifted, replacements-shifted}

-- ---- assignments

-- A class is that of an assignment that sets no recipe prefix; or a change of an assignment makes no pieces of its lines, and they
-- read as no assignment.
pub data Sort (k : Class Cell) : Type 0 where
  Plain : (a : Assignment Cell) → k ≡ Assign a None → Sort k
  Other : ((c : LineChange) → assignment_pieces c k ≡ []) → ((i : Assigned) → reads_as i k ≡ false) → Sort k

pub sort-of : (k : Class Cell) → Sort k
sort-of (Assign a None) = Plain a refl
sort-of (Assign a (Some p)) = Other (λ c. refl) (λ i. refl)
sort-of Endef = Other (λ c. refl) (λ i. refl)
sort-of (Body d) = Other (λ c. refl) (λ i. refl)
sort-of Recipe = Other (λ c. refl) (λ i. refl)
sort-of Opaque = Other (λ c. refl) (λ i. refl)
sort-of Blank = Other (λ c. refl) (λ i. refl)
sort-of Comment = Other (λ c. refl) (λ i. refl)
sort-of (DefineHead p) = Other (λ c. refl) (λ i. refl)
sort-of If = Other (λ c. refl) (λ i. refl)
sort-of Else = Other (λ c. refl) (λ i. refl)
sort-of Endif = Other (λ c. refl) (λ i. refl)
sort-of Directive = Other (λ c. refl) (λ i. refl)
sort-of (TargetAssign t) = Other (λ c. refl) (λ i. refl)
sort-of Rough = Other (λ c. refl) (λ i. refl)
sort-of (Header x) = Other (λ c. refl) (λ i. refl)

assignment-rises : (c : LineChange) (k : Class Cell) (at n : ℕ) → raw_width (part_units k) ≤ n → Rise at (at + n) (replacements at (assignment_pieces c k))
assignment-rises c k at n h = go (sort-of k)
  where
    go : Sort k → Rise at (at + n) (replacements at (assignment_pieces c k))
    go (Plain a e) =
        let m : raw_width (part_units (Assign a None)) ≤ n = subst (λ (z : Class Cell). raw_width (part_units z) ≤ n) e h in
        subst (λ (z : Class Cell). Rise at (at + n) (replacements at (assignment_pieces c z))) (sym e) (line_change-rises c at a n m)
    go (Other e r) = subst (λ (z : List Piece). Rise at (at + n) (replacements at z)) (sym (e c)) (omega arith)

-- ---- recipe lines

-- the first byte and the text of a line have at most as many bytes as the line
text-width : (l : List ℕ) → length (take 1 l) + length (recipe_text l) ≤ length l
text-width [] = omega arith
text-width (b ∷ r) =
    let x = length-drop 1 (without_line_end (b ∷ r)) in
    let y = length-append (without_line_end (b ∷ r)) (line_end_bytes (line_end (b ∷ r))) in
    let z : length (without_line_end (b ∷ r) ++ line_end_bytes (line_end (b ∷ r))) ≡ length (b ∷ r) = ap length (without_line_end-line_end (b ∷ r)) in
    omega (arith, x, y, z)

-- the spans of a recipe line are those of a value that is its text, in a line that begins with its first byte
recipe-rises : (f t l : List ℕ) (at : ℕ) → Rise at (at + length l) (replacements at (recipe_pieces f t l))
recipe-rises f t l at =
    let X = map Byte (take 1 l) in
    let Y = map Byte (recipe_text l) in
    let a : Assignment Cell = record {
      modifiers = [];
      flavor = Recursive;
      before = X ∷ [];
      name = [];
      operator = [];
      value = Y ∷ [];
      after = [];
    } in
    let width : length (raw_text (X ++ (Y ++ []))) ≡ length (take 1 l) + length (recipe_text l) =
    ap (λ z. length (raw_text (X ++ z))) (append-nil Y)
    ∙ (ap length (raw_text-append X Y) ∙ (length-append (raw_text X) (raw_text Y) ∙ (ap (λ z. length z + length (raw_text Y)) (raw_text-bytes (take 1 l)) ∙ ap (λ z. length (take 1 l) + length z) (raw_text-bytes (recipe_text l))))) in
    let least : length (raw_text (X ++ (Y ++ []))) ≤ length l = omega (arith, width, text-width l) in
    let end : at + length (raw_text X) + 0 ≡ at + length (raw_text X) = omega arith in
    let same : replacements at (line_pieces (Substitute f t) a) ≡ replacements at (recipe_pieces f t l) =
    ap (λ z. replacements (at + length (raw_text z) + 0) (substituted f t 0 (Y ++ []))) (append-nil X)
    ∙ (ap (λ z. replacements (at + length (raw_text X) + 0) (substituted f t 0 z)) (append-nil Y) ∙ ap (λ z. replacements z (substituted f t 0 Y)) end) in
    subst (Rise at (at + length l)) same (line_change-rises (Substitute f t) at a (length l) least)

-- ---- each line

change-rises : (c : EachChange) (k : Class Cell) (l : List ℕ) (at : ℕ) → raw_width (part_units k) ≤ length l → Rise at (at + length l) (replacements at (change_pieces c k l))
change-rises (InAssignment c) k l at h = assignment-rises c k at (length l) h
change-rises (InRecipe f t) k l at h = go (is_recipe k)
  where
    go : (b : Bool) → Rise at (at + length l) (replacements at (cond b (recipe_pieces f t l) []))
    go true = recipe-rises f t l at
    go false = omega arith

pub marked-rises : (c : EachChange) (context : Context) (m : MarkedLine) (at : ℕ) → class_of context m.line.bytes ≡ m.line.class → Rise at (at + length m.line.bytes) (replacements at (marked_pieces c m))
marked-rises c context m at h = go m.is_meant
  where
    k : Class Cell
    k = m.line.class

    go : (b : Bool) → Rise at (at + length m.line.bytes) (replacements at (cond b (change_pieces c k m.line.bytes) []))
    go true = change-rises c k m.line.bytes at (subst (λ (z : Class Cell). raw_width (part_units z) ≤ length m.line.bytes) h (parts-within context m.line.bytes))
    go false = omega arith

-- ---- the lines of a text

-- the lines without their marks
abbrev pub unmarked : List MarkedLine → List ClassedLine
unmarked ms = map (λ (m : MarkedLine). m.line) ms

pub unmarked-marked_by : (ss : List StandingLine) (n : ℕ) (ls : List ClassedLine) → unmarked (marked_by ss n ls) ≡ ls
unmarked-marked_by ss n [] = refl
unmarked-marked_by ss n (l ∷ ls) = ap (λ z. l ∷ z) (unmarked-marked_by ss (n + 1) ls)

-- the spans rise within the lines
pub marked_spans-rise : (c : EachChange) (context : Context) (ms : List MarkedLine) (at : ℕ) → AreClassed context (unmarked ms) → Rise at (at + length (text_of (unmarked ms))) (marked_spans c at ms)
marked_spans-rise c context [] at h = omega arith
marked_spans-rise c context (m ∷ ms) at h =
    let l = m.line in
    let ls = unmarked ms in
    let n = at + length l.bytes in
    let e : n + length (text_of ls) ≡ at + length (l.bytes ++ text_of ls) = omega (arith, length-append l.bytes (text_of ls)) in
    Rise-append at n (at + length (l.bytes ++ text_of ls)) (replacements at (marked_pieces c m)) (marked_spans c n ms)
    (marked-rises c context m at (AreClassed-class context l ls h))
    (subst (λ z. Rise n z (marked_spans c n ms)) e (marked_spans-rise c (context_after context l.class) ms n (AreClassed-tail context l ls h)))

-- the spans of an edit rise within the text
pub each-rises : (t : List ℕ) (e : EachEdit) → Rise 0 (length t) (marked_spans (each_change e) 0 (marked e (classed_lines t)))
each-rises t e =
    let ls = classed_lines t in
    let c = each_change e in
    let ms = marked e ls in
    let whole : ls ≡ unmarked ms = sym (unmarked-marked_by (lines_meant ls e) 0 ls) in
    let end : 0 + length (text_of (unmarked ms)) ≡ length t = omega (arith, ap length (ap text_of (sym whole) ∙ text_of-classed_lines t)) in
    subst (λ z. Rise 0 z (marked_spans c 0 ms)) end (marked_spans-rise c start ms 0 (AreClassed-lines t (unmarked ms) whole))

-- ---- a line by itself

-- a line with its pieces replaced does not depend on the offset where it begins
pub pieces-by_itself : (at : ℕ) (ps : List Piece) (l : List ℕ) → replaced at l (replacements at ps) ≡ replaced 0 l (replacements 0 ps)
pieces-by_itself at ps l =
    let e : at + 0 ≡ at = omega arith in
    ap (λ z. replaced z l (replacements z ps)) (sym e) ∙ (ap (replaced (at + 0) l) (replacements-shifted at 0 ps) ∙ replaced-shifted at 0 l (replacements 0 ps))
