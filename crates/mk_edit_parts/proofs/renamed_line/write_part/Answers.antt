use Rattle.std.proofs.Common.{◌≡◌, ◌∙◌, sym, ap, subst, arith, List, [], ◌∷◌, ◌++◌, None, ℕ, length, append-nil}
use Rattle.mk_lines.specs.Cells.{line_cells, joined_text}
use Rattle.mk_lines.specs.Ranges.{text_at, word_ranges}
use Rattle.mk_lines.specs.Words.{words_in}
use Rattle.mk_class.specs.Texts.{is_one_of}
use Rattle.mk_tree.specs.Trees.{line_view}
use Rattle.mk_edit_parts.specs.RenamedRanges.{ranges_in}
use Rattle.mk_edit_parts.specs.RenamedTexts.{AreApart, written}
use Rattle.mk_edit_parts.proofs.on_renaming.AbsentWords.{part-lacks}
use Rattle.mk_edit_parts.proofs.on_renaming.RangeLemmas.{part-words, first-within, ranges-first}
use Rattle.mk_edit_parts.proofs.on_renaming.WrittenLemmas.{written-more}
use Rattle.mk_edit_parts.specs.WordCuts.{last_end}
use Rattle.mk_edit_parts.proofs.renamed_line.write_part.Goals as goal

pub returns-then-not-may_have_word-clause-end : goal.returns-then-not-may_have_word-clause-end
returns-then-not-may_have_word-clause-end g c =
    let cs = line_cells (line_view c.args.line.now).bytes in
    let none = part-lacks cs c.args.span c.args.from.now c.requires.within (ap (λ t. is_one_of c.args.from.now (words_in (text_at t c.args.span))) (sym c.text_of_line-text.ensures) ∙ c.may_have_word.ensures c.if-not-may_have_word.true) in
    ap (last_end c.args.done) (sym none)

pub returns-then-not-may_have_word-clause-written : goal.returns-then-not-may_have_word-clause-written
returns-then-not-may_have_word-clause-written g c =
    let l = (line_view c.args.line.now).bytes in
    let cs = line_cells l in
    let none = part-lacks cs c.args.span c.args.from.now c.requires.within (ap (λ t. is_one_of c.args.from.now (words_in (text_at t c.args.span))) (sym c.text_of_line-text.ensures) ∙ c.may_have_word.ensures c.if-not-may_have_word.true) in
    sym (append-nil c.args.bytes.now.items) ∙ ap (λ ss. c.args.bytes.now.items ++ written l c.args.done c.args.to.now ss) (sym none)

pub words-init : goal.words-init
words-init g c =
    let b = (line_view c.args.line.now).bytes in
    let cs = line_cells b in
    let p = c.args.span in
    let o = c.args.from.now in
    let e : c.into_iter-word-iterator.result ≡ word_ranges (text_at (joined_text cs) p) =
    c.into_iter-word-iterator.ensures.into_iter_gives ∙ (c.words-word-items.ensures.words ∙ ap word_ranges (c.part.ensures ∙ ap (λ t. text_at t p) c.text_of_line-text.ensures)) in
    let k = ap (ranges_in cs p.start o) e in (
      tt,
      tt,
      part-words cs p _ c.requires.within e,
      subst (AreApart c.args.done (length b)) (sym k) c.requires.apart,
      ap (last_end c.args.done) k,
      ap (λ ss. c.args.bytes.now.items ++ written b c.args.done c.args.to.now ss) k,
    )

pub range_of_word-requires-clause-rises : goal.range_of_word-requires-clause-rises
range_of_word-requires-clause-rises g c = (first-within _ _ _ _ c.words.invariant.2 c.in-Some.ensures.steps).0.0

pub range_of_word-requires-clause-within : goal.range_of_word-requires-clause-within
range_of_word-requires-clause-within g c = let w = (first-within _ _ _ _ c.words.invariant.2 c.in-Some.ensures.steps).0 in omega (arith, w.1, c.requires.within.0, c.requires.within.1)

pub write_word-requires-clause-after : goal.write_word-requires-clause-after
write_word-requires-clause-after g c =
    let cs = line_cells (line_view c.args.line.now).bytes in
    let e = ranges-first cs c.args.span.start c.args.from.now _ _ c.in-Some.word _ c.in-Some.ensures.steps c.in-Some-range_of_word.ensures.range in
    (subst (AreApart c.words.done (length (line_view c.args.line.now).bytes)) e c.words.invariant.3).0

pub write_word-requires-clause-within : goal.write_word-requires-clause-within
write_word-requires-clause-within g c =
    omega (arith, ap length c.bytes.ensures.bytes, c.in-Some-range_of_word.ensures.within.0, c.in-Some-range_of_word.ensures.within.1)

pub words-preserved-in-Some-range_of_word : goal.words-preserved-in-Some-range_of_word
words-preserved-in-Some-range_of_word g c =
    let b = (line_view c.args.line.now).bytes in
    let cs = line_cells b in
    let p = c.args.span.start in
    let o = c.args.from.now in
    let n = c.args.to.now in
    let s = c.in-Some-range_of_word.range in
    let rest = ranges_in cs p o c.next.new.self in
    let I = c.words.invariant in
    let e : ranges_in cs p o c.words.word-iterator ≡ s ∷ rest = ranges-first cs p o _ _ c.in-Some.word _ c.in-Some.ensures.steps c.in-Some-range_of_word.ensures.range in
    let w : c.write_word.new.bytes.items ≡ c.words.bytes.items ++ written b c.words.done n (s ∷ []) =
    c.in_ok-write_word.ensures ∙ ap (λ (t : List ℕ). c.words.bytes.items ++ written t c.words.done n (s ∷ [])) c.bytes.ensures.bytes in (
      tt,
      tt,
      (first-within _ _ _ _ I.2 c.in-Some.ensures.steps).1,
      (subst (AreApart c.words.done (length b)) e I.3).2,
      ap (last_end c.words.done) (sym e) ∙ I.4,
      written-more b _ c.words.bytes.items c.write_word.new.bytes.items n c.words.done s rest w (ap (λ ss. c.words.bytes.items ++ written b c.words.done n ss) (sym e) ∙ I.5),
    )

pub words-preserved : goal.words-preserved
words-preserved g c =
    let b = (line_view c.args.line.now).bytes in
    let cs = line_cells b in
    let p = c.args.span.start in
    let o = c.args.from.now in
    let n = c.args.to.now in
    let I = c.words.invariant in
    let e : ranges_in cs p o c.words.word-iterator ≡ ranges_in cs p o c.next.new.self = ranges-first cs p o _ _ c.in-Some.word None c.in-Some.ensures.steps (sym c.in_default.is ∙ c.range_of_word.ensures.range) in (
      tt,
      tt,
      (first-within _ _ _ _ I.2 c.in-Some.ensures.steps).1,
      subst (AreApart c.words.done (length b)) e I.3,
      ap (last_end c.words.done) (sym e) ∙ I.4,
      ap (λ ss. c.words.bytes.items ++ written b c.words.done n ss) (sym e) ∙ I.5,
    )
