use Rattle.std.proofs.Common.{◌≡◌, ◌≤◌, ◌-◌, ◌++◌, ◌∙◌, sym, ap, subst, arith, rules, false, length}
use Rattle.mk_lines.specs.Cells.{line_cells}
use Rattle.mk_lines.specs.Ranges.{text_at, word_ranges}
use Rattle.mk_tree.specs.Trees.{line_view}
use Rattle.mk_tree.specs.LocatedLines.{text_of_line}
use Rattle.mk_edit_parts.specs.WordCuts.{staying_words, some_stays}
use Rattle.mk_edit_parts.proofs.on_finding.PartLemmas.{text-length}
use Rattle.mk_edit_parts.proofs.on_prerequisites.WordRangeLemmas.{AreRising, part-length, text-rises}
use Rattle.mk_edit_parts.proofs.value_words.put_staying.Goals as goal

pub words-init : goal.words-init
words-init g c =
    let l = line_view c.args.line.now in
    let s = c.args.value in
    let own = c.part-text.result.now in
    let t : own ≡ text_at (text_of_line l) s = c.part-text.ensures ∙ ap (λ z. text_at z s) c.text_of_line.ensures in
    let e : c.into_iter-found-iterator.result ≡ word_ranges own = search rules in
    let n : s.end ≤ length (text_of_line l) = omega (arith, text-length l, c.requires.within) in
    let count : length own ≡ s.end - s.start = ap length t ∙ part-length (text_of_line l) s.start s.end c.requires.rises n in
    let zero : 0 ≡ s.start - s.start = omega arith in (
      tt,
      tt,
      omega arith,
      c.requires.rises,
      omega (arith, count),
      subst (λ n. AreRising n (length own) c.into_iter-found-iterator.result) zero (subst (AreRising 0 (length own)) (sym e) (text-rises own)),
      ap (λ z. some_stays own c.args.word.now false z) e ∙ ap (λ z. some_stays z c.args.word.now false (word_ranges z)) t,
      ap (λ z. c.args.bytes.now.items ++ staying_words (line_cells l.bytes) s.start own c.args.word.now false s.start z) e
          ∙ ap (λ z. c.args.bytes.now.items ++ staying_words (line_cells l.bytes) s.start z c.args.word.now false s.start (word_ranges z)) t,
    )
