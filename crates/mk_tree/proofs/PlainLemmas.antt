-- Lines without folds: the joined text is the line's own, and so are the offsets in it.
use Rattle.std.proofs.Common.{◌≡◌, ◌∙◌, ℕ, ◌-◌, ◌≤◌, List, [], All, ap, sym, refl, arith, length}
use Rattle.mk_lines.specs.Cells.{line_cells}
use Rattle.mk_lines.specs.PhysicalLines.{without_line_end}
use Rattle.mk_lines.specs.Ranges.{raw_offset, raw_range}
use Rattle.mk_lines.specs.StoredCells.{offset_by_ends, stored_cells}
use Rattle.mk_lines.specs.declared.split.Span.{Span}
use Rattle.mk_lines.proofs.StoredLemmas.{plain-no_ends, stored_offset-raw_offset}

plain-own_offset : (line : List ℕ) (n : ℕ) → All (λ b. b ≡ 10 → ⊥) (without_line_end line) → n ≤ length (line_cells line) → n ≡ raw_offset (line_cells line) n
plain-own_offset line n plain within =
    let stored = stored_cells (line_cells line) in
    let none : stored.ends ≡ [] = plain-no_ends stored line (record { same = refl }) plain in
    sym (ap (λ ends. offset_by_ends ends (stored.count - n) n) none) ∙ stored_offset-raw_offset stored line n (record { same = refl }) within

pub plain-own_range : (line : List ℕ) (s e : ℕ) → All (λ b. b ≡ 10 → ⊥) (without_line_end line) → s ≤ e → e ≤ length (line_cells line)
    → ◌≡◌ {A = Span} (record { start = s; end = e }) (raw_range (line_cells line) s e)
plain-own_range line s e plain rises within =
    let start : s ≡ raw_offset (line_cells line) s = plain-own_offset line s plain (omega arith) in
    let end : e ≡ raw_offset (line_cells line) e = plain-own_offset line e plain within in
    cc
