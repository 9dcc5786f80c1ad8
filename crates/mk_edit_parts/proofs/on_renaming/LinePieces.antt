-- A line of a text: the ranges of its words that a rename replaces are the replacements of its pieces, which begin it.
use Rattle.std.proofs.Common.{◌≡◌, refl, sym, ap, ◌∙◌, arith, ℕ, ◌+◌, ◌-◌, List, [], ◌++◌, length, append_assoc}
use Rattle.std.specs.Prelude.{if◌then◌else◌}
use Rattle.std.proofs.lemmas.List.{append-nil, length-map}
use Rattle.mk_lines.specs.Lists.{concat}
use Rattle.mk_lines.specs.PhysicalLines.{line_end, line_end_bytes, without_line_end}
use Rattle.mk_lines.specs.Cells.{Cell, joined_byte, joined_text, line_cells, raw_text}
use Rattle.mk_lines.specs.Pieces.{Piece, old_bytes, replacements}
use Rattle.mk_lines.specs.Ranges.{text_at}
use Rattle.mk_lines.specs.Units.{units}
use Rattle.mk_lines.proofs.on_lines.LineEndLemmas.{without_line_end-line_end}
use Rattle.mk_lines.proofs.on_cells.CellLemmas.{raw_text-append, raw_text-cells}
use Rattle.mk_lines.proofs.on_lists.ListLemmas.{concat-append, leading-after_leading}
use Rattle.mk_lines.proofs.on_lists.PieceLemmas.{old_bytes-append}
use Rattle.mk_lines.proofs.on_units.UnitLemmas.{concat-units}
use Rattle.mk_class.specs.CutTexts.{cut_text, comment, is_no_hash}
use Rattle.mk_class.specs.Separators.{Separated, separated}
use Rattle.mk_class.specs.Headers
use Rattle.mk_class.specs.Headers.{TargetAssignment, header_units}
use Rattle.mk_class.specs.Classes.{Class}
use Rattle.mk_class.specs.Classes.Class.{Endef, Body, Recipe, Opaque, Blank, Comment, Assign, DefineHead, If, Else, Endif, Directive, TargetAssign, Rough, Header}
use Rattle.mk_class.specs.LocatedClasses.{located_class, located_header, width}
use Rattle.mk_class.specs.ClassTable.{class_of}
use Rattle.mk_class.specs.ClassedLines.{ClassedLine}
use Rattle.mk_class.specs.Contexts.{Context}
use Rattle.mk_class.specs.PartOffsets.{IsPart, raw_width}
use Rattle.mk_class.proofs.on_classes.ClassHolds.{holds-as}
use Rattle.mk_class.proofs.on_classes.PartOffsetLemmas.{width-append}
use Rattle.mk_class.proofs.on_classes.LinePartLemmas.{header-located, target-located}
use Rattle.mk_class.proofs.on_headers.HeadersWhole.{header-whole, separated-whole}
use Rattle.mk_tree.specs.LocatedLines.{located_line}
use Rattle.mk_tree.proofs.on_changes.SpansInLines.{replacements-append}
use Rattle.mk_edit_language.specs.WordPieces.{kept, renamed_pieces, renamed_words}
use Rattle.mk_edit_language.proofs.on_lines.ClassParts.{raw_width-append}
use Rattle.mk_edit_parts.specs.RenamedRanges.{span, part_ranges, renamed_ranges}
use Rattle.mk_edit_parts.proofs.on_renaming.RangeLemmas.{text_at-length}
use Rattle.mk_edit_parts.proofs.on_renaming.PieceRanges.{replacing, replacing-append, part-pieces, words-old, kept-and_words}

-- ---- what is known of a line of a class

-- the units of a header's line are its parts
header-line : (c : Context) (l : List ℕ) (h : Headers.Header Cell) → class_of c l ≡ Header h → units joined_byte (line_cells l) ≡ header_units h
header-line c l h e = let i = holds-as c l (Header h) e in sym (header-whole joined_byte (units joined_byte (line_cells l))) ∙ ap header_units i.is

-- the units of an assignment for targets begin with its targets
record BeginsWithTargets (us t : List (List Cell)) : Type 0 where
  rest : List (List Cell)
  whole : us ≡ t ++ rest

target-line : (c : Context) (l : List ℕ) (t : TargetAssignment Cell) → class_of c l ≡ TargetAssign t → BeginsWithTargets (units joined_byte (line_cells l)) t.targets
target-line c l t e =
    let us = units joined_byte (line_cells l) in
    let i = holds-as c l (TargetAssign t) e in
    let S : Separated Cell = separated joined_byte (cut_text joined_byte us) in
    let cut : cut_text joined_byte us ≡ t.targets ++ (t.colons ++ S.rest) = sym (separated-whole joined_byte (cut_text joined_byte us)) ∙ ap (λ (z : TargetAssignment Cell). z.targets ++ (z.colons ++ S.rest)) i.is in
    record {
      rest = (t.colons ++ S.rest) ++ comment joined_byte us;
      whole =
          sym (leading-after_leading (is_no_hash joined_byte) us)
          ∙ (ap (λ z. z ++ comment joined_byte us) cut ∙ append_assoc t.targets (t.colons ++ S.rest) (comment joined_byte us));
    }

-- a part is as wide as its range
pub part-width : (cs : List Cell) (s e : ℕ) (b p : List (List Cell)) → IsPart cs s e b p → e ≡ s + width p
part-width cs s e b p h =
    let n : length (text_at (joined_text cs) (span s e)) ≡ e - s = text_at-length (joined_text cs) (span s e) (h.rises, omega (arith, h.within, length-map cs joined_byte)) in
    omega (arith, n, ap length h.text_is, length-map (concat p) joined_byte, h.rises)

-- ---- the cells of a line, by its units

split : (cs : List Cell) (b p a : List (List Cell)) → units joined_byte cs ≡ b ++ (p ++ a) → cs ≡ concat b ++ (concat p ++ concat a)
split cs b p a h = sym (concat-units joined_byte cs) ∙ (ap concat h ∙ (concat-append b (p ++ a) ∙ ap (λ z. concat b ++ z) (concat-append p a)))

-- the replacements in a part
part-replaced : (cs : List Cell) (b p a : List (List Cell)) (o n : List ℕ) (s e : ℕ) → units joined_byte cs ≡ b ++ (p ++ a) → IsPart cs s e b p → s ≡ width b → replacing n (part_ranges cs o (span s e)) ≡ replacements (raw_width b) (renamed_words o n p)
part-replaced cs b p a o n s e h i k = part-pieces cs b p a o n s e (split cs b p a h) k i.units_are

header-pieces : (c : Context) (l : List ℕ) (h : Headers.Header Cell) (o n : List ℕ) → class_of c l ≡ Header h
    → replacing n (renamed_ranges o (record { bytes = l; class = located_class joined_byte (Header h) })) ≡ replacements 0 (renamed_pieces o n (Header h))
header-pieces c l h o n e =
    let cs = line_cells l in
    let T = h.targets in
    let C = h.colons in
    let P = h.pattern in
    let D = h.second_colon in
    let N = h.normal in
    let B = h.bar in
    let O = h.order_only in
    let at = located_header joined_byte h in
    let whole = header-line c l h e in
    let I = header-located c l h e in
    let start = at.normal_end + (if at.has_order_only then 1 else 0) in
    let bN = T ++ (C ++ (P ++ D)) in
    let bO = T ++ (C ++ (P ++ (D ++ (N ++ B)))) in
    let wN : width bN ≡ width T + (width C + (width P + width D)) = omega (arith, width-append T (C ++ (P ++ D)), width-append C (P ++ D), width-append P D) in
    let wO : width bO ≡ width T + (width C + (width P + (width D + (width N + width B)))) =
    omega (arith, width-append T (C ++ (P ++ (D ++ (N ++ B)))), width-append C (P ++ (D ++ (N ++ B))), width-append P (D ++ (N ++ B)), width-append D (N ++ B), width-append N B) in
    let sO : start ≡ width bO = omega (arith, part-width cs start at.head_end _ O I.order_only, wO) in
    let rT = part-replaced cs [] T (C ++ (P ++ (D ++ (N ++ (B ++ (O ++ h.tail)))))) o n 0 at.targets_end whole I.targets refl in
    let rN = part-replaced cs bN N (B ++ (O ++ h.tail)) o n at.normal_start at.normal_end (whole ∙ simp append_assoc) I.normal (omega (arith, wN)) in
    let rO = part-replaced cs bO O h.tail o n start at.head_end (whole ∙ simp append_assoc) I.order_only sO in
    let pT = part_ranges cs o (span 0 at.targets_end) in
    let pN = part_ranges cs o (span at.normal_start at.normal_end) in
    let pO = part_ranges cs o (span start at.head_end) in
    let K = C ++ (P ++ D) in
    let W = renamed_words o n in
    let kN : 0 + raw_width T + raw_width K ≡ raw_width bN = omega (arith, raw_width-append T K) in
    let kO : 0 + raw_width T + raw_width K + raw_width N + raw_width B ≡ raw_width bO = omega (arith, raw_width-append T K, raw_width-append T (C ++ (P ++ (D ++ (N ++ B)))), raw_width-append C (P ++ (D ++ (N ++ B))), raw_width-append P (D ++ (N ++ B)), raw_width-append D (N ++ B), raw_width-append N B, raw_width-append C (P ++ D), raw_width-append P D) in
    let tail = W O ++ kept h.tail in
    let left : replacing n (pT ++ (pN ++ pO)) ≡ replacements 0 (W T) ++ (replacements (raw_width bN) (W N) ++ replacements (raw_width bO) (W O)) =
    replacing-append n pT (pN ++ pO) ∙ (ap (λ z. z ++ replacing n (pN ++ pO)) rT ∙ ap (λ z. replacements 0 (W T) ++ z) (replacing-append n pN pO ∙ (ap (λ z. z ++ replacing n pO) rN ∙ ap (λ z. replacements (raw_width bN) (W N) ++ z) rO))) in
    let a0 : replacements 0 (renamed_pieces o n (Header h)) ≡ replacements 0 (W T) ++ replacements (0 + raw_width T) (kept K ++ (W N ++ (kept B ++ tail))) =
    replacements-append 0 (W T) (kept K ++ (W N ++ (kept B ++ tail))) ∙ ap (λ z. replacements 0 (W T) ++ replacements (0 + length z) (kept K ++ (W N ++ (kept B ++ tail)))) (words-old o n T) in
    let a1 : replacements (0 + raw_width T) (kept K ++ (W N ++ (kept B ++ tail))) ≡ replacements (raw_width bN) (W N) ++ replacements (0 + raw_width T + raw_width K + raw_width N) (kept B ++ tail) =
    kept-and_words (0 + raw_width T) K N o n (kept B ++ tail) ∙ ap (λ z. replacements z (W N) ++ replacements (0 + raw_width T + raw_width K + raw_width N) (kept B ++ tail)) kN in
    let a2 : replacements (0 + raw_width T + raw_width K + raw_width N) (kept B ++ tail) ≡ replacements (raw_width bO) (W O) =
    kept-and_words (0 + raw_width T + raw_width K + raw_width N) B O o n (kept h.tail) ∙ (append-nil (replacements (0 + raw_width T + raw_width K + raw_width N + raw_width B) (W O)) ∙ ap (λ z. replacements z (W O)) kO) in
    left ∙ sym (a0 ∙ ap (λ z. replacements 0 (W T) ++ z) (a1 ∙ ap (λ z. replacements (raw_width bN) (W N) ++ z) a2))

target-pieces : (c : Context) (l : List ℕ) (t : TargetAssignment Cell) (o n : List ℕ) → class_of c l ≡ TargetAssign t
    → replacing n (renamed_ranges o (record { bytes = l; class = located_class joined_byte (TargetAssign t) })) ≡ replacements 0 (renamed_pieces o n (TargetAssign t))
target-pieces c l t o n e =
    let cs = line_cells l in
    let I = target-located c l t e in
    let b = target-line c l t e in
    let p = part_ranges cs o (span 0 (width t.targets)) in
    ap (replacing n) (append-nil p) ∙ part-replaced cs [] t.targets b.rest o n 0 (width t.targets) b.whole I.targets refl

-- The ranges of a line's words that a rename replaces are the replacements of its pieces.
pub line-pieces : (c : Context) (l : ClassedLine) (o n : List ℕ) → class_of c l.bytes ≡ l.class → replacing n (renamed_ranges o (located_line l)) ≡ replacements 0 (renamed_pieces o n l.class)
line-pieces c l o n h = go l.class h
  where
    go : (k : Class Cell) → class_of c l.bytes ≡ k → replacing n (renamed_ranges o (record { bytes = l.bytes; class = located_class joined_byte k })) ≡ replacements 0 (renamed_pieces o n k)
    go (Header x) e = header-pieces c l.bytes x o n e
    go (TargetAssign t) e = target-pieces c l.bytes t o n e
    go (Assign a p) e = refl
    go Endef e = refl
    go (Body d) e = refl
    go Recipe e = refl
    go Opaque e = refl
    go Blank e = refl
    go Comment e = refl
    go (DefineHead q) e = refl
    go If e = refl
    go Else e = refl
    go Endif e = refl
    go Directive e = refl
    go Rough e = refl

-- ---- the pieces begin the line

-- The line is the old bytes of its pieces and a rest.
pub record BeginsWith (l : List ℕ) (ps : List Piece) : Type 0 where
  pub rest : List ℕ
  pub is : l ≡ old_bytes ps ++ rest

line-raw : (l : List ℕ) (b : List Cell) → line_cells l ≡ b → l ≡ raw_text b ++ line_end_bytes (line_end l)
line-raw l b h = sym (without_line_end-line_end l) ∙ ap (λ z. z ++ line_end_bytes (line_end l)) (sym (raw_text-cells (without_line_end l)) ∙ ap raw_text h)

kept-old : (us : List (List Cell)) → old_bytes (kept us) ≡ raw_text (concat us)
kept-old us = append-nil (raw_text (concat us))

header-begins : (c : Context) (l : List ℕ) (h : Headers.Header Cell) (o n : List ℕ) → class_of c l ≡ Header h → BeginsWith l (renamed_pieces o n (Header h))
header-begins c l h o n e =
    let R : List (List Cell) → List ℕ = λ us. raw_text (concat us) in
    let W = renamed_words o n in
    let cat : (a b : List (List Cell)) → R (a ++ b) ≡ R a ++ R b = λ a b. ap raw_text (concat-append a b) ∙ raw_text-append (concat a) (concat b) in
    let K = h.colons ++ (h.pattern ++ h.second_colon) in
    let T = h.targets in
    let N = h.normal in
    let B = h.bar in
    let O = h.order_only in
    let X = h.tail in
    let old : old_bytes (renamed_pieces o n (Header h)) ≡ R T ++ (R K ++ (R N ++ (R B ++ (R O ++ R X)))) =
    old_bytes-append (W T) (kept K ++ (W N ++ (kept B ++ (W O ++ kept X))))
    ∙ (ap (λ z. z ++ old_bytes (kept K ++ (W N ++ (kept B ++ (W O ++ kept X))))) (words-old o n T)
    ∙ ap (λ z. R T ++ (R K ++ z)) (old_bytes-append (W N) (kept B ++ (W O ++ kept X))
    ∙ (ap (λ z. z ++ old_bytes (kept B ++ (W O ++ kept X))) (words-old o n N)
    ∙ ap (λ z. R N ++ (R B ++ z)) (old_bytes-append (W O) (kept X) ∙ (ap (λ z. z ++ old_bytes (kept X)) (words-old o n O) ∙ ap (λ z. R O ++ z) (kept-old X)))))) in
    let units_are : header_units h ≡ T ++ (K ++ (N ++ (B ++ (O ++ X)))) = simp append_assoc in
    let raws : R (header_units h) ≡ R T ++ (R K ++ (R N ++ (R B ++ (R O ++ R X)))) =
    ap R units_are ∙ (cat T (K ++ (N ++ (B ++ (O ++ X)))) ∙ ap (λ z. R T ++ z) (cat K (N ++ (B ++ (O ++ X))) ∙ ap (λ z. R K ++ z) (cat N (B ++ (O ++ X)) ∙ ap (λ z. R N ++ z) (cat B (O ++ X) ∙ ap (λ z. R B ++ z) (cat O X))))) in
    record { rest = line_end_bytes (line_end l); is = line-raw l (concat (header_units h)) (sym (concat-units joined_byte (line_cells l)) ∙ ap concat (header-line c l h e)) ∙ ap (λ z. z ++ line_end_bytes (line_end l)) (raws ∙ sym old) }

target-begins : (c : Context) (l : List ℕ) (t : TargetAssignment Cell) (o n : List ℕ) → class_of c l ≡ TargetAssign t → BeginsWith l (renamed_pieces o n (TargetAssign t))
target-begins c l t o n e =
    let b = target-line c l t e in
    let cells : line_cells l ≡ concat t.targets ++ concat b.rest = sym (concat-units joined_byte (line_cells l)) ∙ (ap concat b.whole ∙ concat-append t.targets b.rest) in
    record {
      rest = raw_text (concat b.rest) ++ line_end_bytes (line_end l);
      is =
          line-raw l (concat t.targets ++ concat b.rest) cells
          ∙ (ap (λ z. z ++ line_end_bytes (line_end l)) (raw_text-append (concat t.targets) (concat b.rest))
          ∙ (append_assoc (raw_text (concat t.targets)) (raw_text (concat b.rest)) (line_end_bytes (line_end l)) ∙ ap (λ z. z ++ (raw_text (concat b.rest) ++ line_end_bytes (line_end l))) (sym (words-old o n t.targets))));
    }

pub line-begins : (c : Context) (l : ClassedLine) (o n : List ℕ) → class_of c l.bytes ≡ l.class → BeginsWith l.bytes (renamed_pieces o n l.class)
line-begins c l o n h = go l.class h
  where
    none : (k : Class Cell) → renamed_pieces o n k ≡ [] → BeginsWith l.bytes (renamed_pieces o n k)
    none k e = record { rest = l.bytes; is = ap (λ ps. old_bytes ps ++ l.bytes) (sym e) }

    go : (k : Class Cell) → class_of c l.bytes ≡ k → BeginsWith l.bytes (renamed_pieces o n k)
    go (Header x) e = header-begins c l.bytes x o n e
    go (TargetAssign t) e = target-begins c l.bytes t o n e
    go (Assign a p) e = none (Assign a p) refl
    go Endef e = none Endef refl
    go (Body d) e = none (Body d) refl
    go Recipe e = none Recipe refl
    go Opaque e = none Opaque refl
    go Blank e = none Blank refl
    go Comment e = none Comment refl
    go (DefineHead q) e = none (DefineHead q) refl
    go If e = none If refl
    go Else e = none Else refl
    go Endif e = none Endif refl
    go Directive e = none Directive refl
    go Rough e = none Rough refl
