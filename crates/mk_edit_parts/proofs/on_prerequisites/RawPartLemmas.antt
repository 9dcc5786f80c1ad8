-- The raw bytes of a range of a line's joined text, cut out of the line's bytes.
use Rattle.std.proofs.Common.{◌≡◌, refl, sym, ap, ◌∙◌, arith, ℕ, ◌+◌, ◌≤◌, List, [], ◌++◌, length, length-append, take, drop, append_assoc}
use Rattle.std.specs.Prelude.{slice_range}
use Rattle.std.proofs.lemmas.List.{append-nil}
use Rattle.std.proofs.lemmas.List.Folds.{drop_split}
use Rattle.mk_lines.specs.PhysicalLines.{line_end, line_end_bytes, without_line_end}
use Rattle.mk_lines.specs.Cells.{Cell, line_cells, raw_text}
use Rattle.mk_lines.specs.Ranges.{raw_offset}
use Rattle.mk_lines.proofs.on_cells.CellLemmas.{raw_text-append, raw_text-cells}
use Rattle.mk_lines.proofs.on_lines.LineEndLemmas.{without_line_end-line_end}
use Rattle.mk_lines.proofs.on_lists.RangeLemmas.{raw_text-split}
use Rattle.mk_edit_parts.specs.WordCuts.{raw_between}
use Rattle.mk_edit_parts.proofs.on_prerequisites.WordRangeLemmas.{slice-at}

-- a line is the raw bytes of its cells, and its line end
line-raw : (l : List ℕ) → l ≡ raw_text (line_cells l) ++ line_end_bytes (line_end l)
line-raw l = sym (without_line_end-line_end l) ∙ ap (λ z. z ++ line_end_bytes (line_end l)) (sym (raw_text-cells (without_line_end l)))

-- the raw bytes before a range, of the range, and after it
raw-three : (cs : List Cell) (s e : ℕ) → s ≤ e → raw_text cs ≡ raw_text (take s cs) ++ (raw_between cs s e ++ raw_text (drop e cs))
raw-three cs s e h = raw_text-split cs s ∙ ap (λ z. raw_text (take s cs) ++ z) (ap raw_text (drop_split cs s e h) ∙ raw_text-append (slice_range cs s e) (drop e cs))

offset-end : (cs : List Cell) (s e : ℕ) → s ≤ e → raw_offset cs e ≡ raw_offset cs s + length (raw_between cs s e)
offset-end cs s e h =
    omega (arith, ap length (raw_text-split cs e), ap length (raw-three cs s e h), length-append (raw_text (take e cs)) (raw_text (drop e cs)), length-append (raw_text (take s cs)) (raw_between cs s e ++ raw_text (drop e cs)), length-append (raw_between cs s e) (raw_text (drop e cs)))

pub raw-rises : (cs : List Cell) (s e : ℕ) → s ≤ e → raw_offset cs s ≤ raw_offset cs e
raw-rises cs s e h = omega (arith, offset-end cs s e h)

pub raw-within : (l : List ℕ) (e : ℕ) → raw_offset (line_cells l) e ≤ length l
raw-within l e =
    let cs = line_cells l in
    omega (arith, ap length (line-raw l), length-append (raw_text cs) (line_end_bytes (line_end l)), ap length (raw_text-split cs e), length-append (raw_text (take e cs)) (raw_text (drop e cs)))

pub raw-part : (l : List ℕ) (s e : ℕ) → s ≤ e → slice_range l (raw_offset (line_cells l) s) (raw_offset (line_cells l) e) ≡ raw_between (line_cells l) s e
raw-part l s e h =
    let cs = line_cells l in
    let E = line_end_bytes (line_end l) in
    let whole : l ≡ raw_text (take s cs) ++ (raw_between cs s e ++ (raw_text (drop e cs) ++ E)) =
    line-raw l ∙ (ap (λ z. z ++ E) (raw-three cs s e h) ∙ simp append_assoc) in
    ap (λ z. slice_range z (raw_offset cs s) (raw_offset cs e)) whole
    ∙ slice-at (raw_offset cs s) (raw_offset cs e) (raw_text (take s cs)) (raw_between cs s e) (raw_text (drop e cs) ++ E) refl (offset-end cs s e h)

pub raw-rest : (l : List ℕ) (s : ℕ) → slice_range l (raw_offset (line_cells l) s) (length l) ≡ raw_text (drop s (line_cells l)) ++ line_end_bytes (line_end l)
raw-rest l s =
    let cs = line_cells l in
    let E = line_end_bytes (line_end l) in
    let R = raw_text (drop s cs) ++ E in
    let whole : l ≡ raw_text (take s cs) ++ (R ++ []) = line-raw l ∙ (ap (λ z. z ++ E) (raw_text-split cs s) ∙ (append_assoc (raw_text (take s cs)) (raw_text (drop s cs)) E ∙ ap (λ z. raw_text (take s cs) ++ z) (sym (append-nil R)))) in
    ap (λ z. slice_range z (raw_offset cs s) (length l)) whole
    ∙ slice-at (raw_offset cs s) (length l) (raw_text (take s cs)) R [] refl (omega (arith, ap length whole, length-append (raw_text (take s cs)) (R ++ []), ap length (append-nil R)))
