use Rattle.std.proofs.Common.{◌≡◌, ◌∙◌, sym, ap, arith, rules, [], ◌∷◌, Option}
use Rattle.mk_lines.specs.Cells.{line_cells, joined_text}
use Rattle.mk_lines.specs.declared.split.Span.{Span}
use Rattle.mk_lines.specs.Ranges.{text_at, word_ranges}
use Rattle.mk_tree.specs.Trees.{line_view}
use Rattle.mk_edit_parts.specs.declared.tally.Tally.{Tally}
use Rattle.mk_edit_parts.specs.RenamedRanges.{range_in, ranges_in, part_ranges, before_ranges, tallied}
use Rattle.mk_edit_parts.proofs.on_renaming.AbsentWords.{part-lacks}
use Rattle.mk_edit_parts.proofs.on_renaming.RangeLemmas.{part-words, first-within, tallied-before, tallied-none, HasRoom, room-ahead}
use Rattle.mk_edit_parts.proofs.tally.count_in_part.Goals as goal

pub returns-then-span-place : goal.returns-then-span-place
returns-then-span-place g c =
    let cs = line_cells (line_view c.args.line.now).bytes in
    let none = part-lacks cs c.args.span c.args.from.now c.requires.within (c.requires.passed (omega (arith, c.if-span-place.true))) in
    sym (tallied-none c.args.tally) ∙ ap (tallied c.args.tally) (sym none)

pub words-init : goal.words-init
words-init g c =
    let cs = line_cells (line_view c.args.line.now).bytes in
    let p = c.args.span in
    let e : c.into_iter-word-iterator.result ≡ word_ranges (text_at (joined_text cs) p) =
    c.into_iter-word-iterator.ensures.into_iter_gives ∙ (c.words-word-items.ensures.words ∙ ap word_ranges (c.part.ensures ∙ ap (λ t. text_at t p) c.text_of_line.ensures)) in
    (tt, tt, part-words cs p _ c.requires.within e, ap (λ ws. tallied c.args.tally (ranges_in cs p.start c.args.from.now ws)) e)

pub range_of_word-requires-clause-rises : goal.range_of_word-requires-clause-rises
range_of_word-requires-clause-rises g c = (first-within _ _ _ _ c.words.invariant.2 c.in-Some.ensures.steps).0.0

pub range_of_word-requires-clause-within : goal.range_of_word-requires-clause-within
range_of_word-requires-clause-within g c = let w = (first-within _ _ _ _ c.words.invariant.2 c.in-Some.ensures.steps).0 in omega (arith, w.1, c.requires.within.0, c.requires.within.1)

room : (g : _) (c : goal.After-range_of_word g) → HasRoom c.words.tally c.range_of_word.result
room g c =
    let cs = line_cells (line_view c.args.line.now).bytes in
    let p = c.args.span.start in
    let o = c.args.from.now in
    let t = c.words.tally in
    let rest = ranges_in cs p o c.next.new.self in
    let e : c.words.word-iterator ≡ c.in-Some.word ∷ c.next.new.self = c.in-Some.ensures.steps in
    let k : tallied t (before_ranges c.range_of_word.result rest) ≡ tallied c.args.tally (part_ranges cs o c.args.span) =
    ap (λ (z : Option Span). tallied t (before_ranges z rest)) c.range_of_word.ensures.range ∙ (ap (λ ws. tallied t (ranges_in cs p o ws)) (sym e) ∙ c.words.invariant.3) in
    room-ahead t c.args.tally c.range_of_word.result rest (part_ranges cs o c.args.span) k c.requires.few c.requires.few_bytes

pub counted-tally-requires-clause-few : goal.counted-tally-requires-clause-few
counted-tally-requires-clause-few g c = (room g c).words

pub counted-tally-requires-clause-few_bytes : goal.counted-tally-requires-clause-few_bytes
counted-tally-requires-clause-few_bytes g c = (room g c).bytes

pub words-preserved : goal.words-preserved
words-preserved g c =
    let cs = line_cells (line_view c.args.line.now).bytes in
    let p = c.args.span.start in
    let o = c.args.from.now in
    let t = c.words.tally in
    let left = c.next.new.self in
    let rest = ranges_in cs p o left in
    let e : c.words.word-iterator ≡ c.in-Some.word ∷ left = c.in-Some.ensures.steps in
    let k : tallied c.counted-tally.result rest ≡ tallied t (before_ranges (range_in cs p o c.in-Some.word) rest) =
    ap (λ (z : Tally). tallied z rest) c.counted-tally.ensures ∙ (tallied-before t c.range_of_word.result rest ∙ ap (λ (z : Option Span). tallied t (before_ranges z rest)) c.range_of_word.ensures.range) in
    (tt, tt, (first-within _ _ _ _ c.words.invariant.2 e).1, k ∙ (ap (λ ws. tallied t (ranges_in cs p o ws)) (sym e) ∙ c.words.invariant.3))

pub returns : goal.returns
returns g c =
    let cs = line_cells (line_view c.args.line.now).bytes in
    let e : c.words.word-iterator ≡ [] = search rules in
    sym (tallied-none c.words.tally) ∙ (ap (λ ws. tallied c.words.tally (ranges_in cs c.args.span.start c.args.from.now ws)) (sym e) ∙ c.words.invariant.3)
