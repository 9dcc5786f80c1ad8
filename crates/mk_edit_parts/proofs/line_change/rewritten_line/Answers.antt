use Rattle.std.proofs.Common.{arith, sym, subst, ℕ, ◌≤◌, List, [], ◌∷◌, length}
use Rattle.std.specs.Prelude.{slice_index_or}
use Rattle.mk_lines.specs.Cells.{Cell, line_cells}
use Rattle.mk_lines.specs.Ranges.{raw_range}
use Rattle.mk_lines.specs.declared.split.Span.{Span}
use Rattle.mk_tree.specs.Trees.{line_view}
use Rattle.mk_edit_parts.specs.LineChangePlaces.{raw_ranges}
use Rattle.mk_edit_parts.specs.RenamedTexts.{AreApart}
use Rattle.mk_edit_parts.proofs.on_renaming.WrittenLemmas.{first-apart}
use Rattle.mk_edit_parts.proofs.line_change.rewritten_line.Goals as goal

-- the first of some raw ranges begins within the line
first-raw : (cs : List Cell) (at n : ℕ) (ss : List Span) (d : Span) → AreApart at n (raw_ranges cs ss) → 1 ≤ length ss
    → (raw_range cs (slice_index_or ss 0 d).start (slice_index_or ss 0 d).end).start ≤ n
first-raw cs at n [] d h k = absurd (omega (arith, k))
first-raw cs at n (s ∷ ss) d h k = first-apart at n (raw_ranges cs (s ∷ ss)) d h (omega arith)

pub write_word-requires-clause-within : goal.write_word-requires-clause-within
write_word-requires-clause-within g c =
    let l = line_view c.args.line.now in
    subst (λ b. c.raw_range-raw.result.start ≤ length b) (sym c.bytes-bytes.ensures.bytes)
    (subst (λ (z : Span). z.start ≤ length l.bytes) (sym c.raw_range-raw.ensures)
    (first-raw (line_cells l.bytes) c.left.done (length l.bytes) c.left.left.now _ c.left.invariant.apart c.in-len1-up.len_at_least))
