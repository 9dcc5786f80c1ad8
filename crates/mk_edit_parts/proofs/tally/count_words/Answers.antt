use Rattle.std.proofs.Common.{◌≡◌, ◌∙◌, sym, ap, subst, arith, false, [], ℕ, ◌+◌, ◌^◌, ◌<◌, ◌≤◌, ◌++◌, List, length, length-append}
use Rattle.mk_lines.specs.Cells.{Cell, line_cells}
use Rattle.mk_lines.specs.Ranges.{text_at}
use Rattle.mk_lines.specs.Words.{words_in}
use Rattle.mk_lines.specs.declared.split.Span.{Span}
use Rattle.mk_class.specs.Texts.{is_one_of}
use Rattle.mk_class.specs.declared.class.Class as class
use Rattle.mk_tree.specs.Trees.{line_view}
use Rattle.mk_edit_parts.specs.declared.tally.Tally.{Tally}
use Rattle.mk_edit_parts.specs.declared.word_parts.WordParts.{WordParts}
use Rattle.mk_edit_parts.specs.Glances.{IsPassed}
use Rattle.mk_edit_parts.specs.RenamedRanges.{IsWithin, bytes_in, no_words, part_ranges, parts_ranges, tallied, word_parts}
use Rattle.mk_edit_parts.proofs.on_renaming.AbsentWords.{part-lacks}
use Rattle.mk_edit_parts.proofs.on_renaming.RangeLemmas.{bytes_in-three, ranges-are, tallied-append, tallied-none}
use Rattle.mk_edit_parts.proofs.tally.count_words.Goals as goal

few : (cs : List Cell) (o : List ℕ) (p : WordParts) (k j : class.Class) → p ≡ word_parts k → k ≡ j → bytes_in (parts_ranges cs o (word_parts j)) ≤ 2 ^ 32
    → bytes_in (part_ranges cs o p.targets) + (bytes_in (part_ranges cs o p.normal) + bytes_in (part_ranges cs o p.order_only)) ≤ 2 ^ 32
few cs o p k j h e b = omega (arith, bytes_in-three (part_ranges cs o p.targets) (part_ranges cs o p.normal) (part_ranges cs o p.order_only), ap bytes_in (ranges-are cs o p k j h e), b)

few_words : (cs : List Cell) (o : List ℕ) (p : WordParts) (k j : class.Class) → p ≡ word_parts k → k ≡ j → length (parts_ranges cs o (word_parts j)) < 2 ^ 32
    → length (part_ranges cs o p.targets) + (length (part_ranges cs o p.normal) + length (part_ranges cs o p.order_only)) < 2 ^ 32
few_words cs o p k j h e b =
    let N = part_ranges cs o p.normal in
    let O = part_ranges cs o p.order_only in
    omega (arith, length-append (part_ranges cs o p.targets) (N ++ O), length-append N O, ap length (ranges-are cs o p k j h e), b)

pub count_in_part-targets-requires-clause-few : goal.count_in_part-targets-requires-clause-few
count_in_part-targets-requires-clause-few g c =
    let f = few_words (line_cells (line_view c.args.line.now).bytes) c.args.from.now c.parts_of-parts.result _ _ c.parts_of-parts.ensures.parts c.requires.class c.requires.few in
    omega (arith, f, ap (λ (t : Tally). t.words) c.none-none.ensures)

pub count_in_part-normal-requires-clause-few : goal.count_in_part-normal-requires-clause-few
count_in_part-normal-requires-clause-few g c =
    let f = few_words (line_cells (line_view c.args.line.now).bytes) c.args.from.now c.parts_of-parts.result _ _ c.parts_of-parts.ensures.parts c.requires.class c.requires.few in
    omega (arith, f, ap (λ (t : Tally). t.words) c.none-none.ensures, ap (λ (t : Tally). t.words) c.count_in_part-targets.ensures)

pub count_in_part-requires-clause-few : goal.count_in_part-requires-clause-few
count_in_part-requires-clause-few g c =
    let f = few_words (line_cells (line_view c.args.line.now).bytes) c.args.from.now c.parts_of-parts.result _ _ c.parts_of-parts.ensures.parts c.requires.class c.requires.few in
    omega (arith, f, ap (λ (t : Tally). t.words) c.none-none.ensures, ap (λ (t : Tally). t.words) c.count_in_part-targets.ensures, ap (λ (t : Tally). t.words) c.count_in_part-normal.ensures)

pub count_in_part-targets-requires-clause-few_bytes : goal.count_in_part-targets-requires-clause-few_bytes
count_in_part-targets-requires-clause-few_bytes g c =
    let f = few (line_cells (line_view c.args.line.now).bytes) c.args.from.now c.parts_of-parts.result _ _ c.parts_of-parts.ensures.parts c.requires.class c.requires.few_bytes in
    omega (arith, f, ap (λ (t : Tally). t.bytes) c.none-none.ensures)

pub count_in_part-normal-requires-clause-few_bytes : goal.count_in_part-normal-requires-clause-few_bytes
count_in_part-normal-requires-clause-few_bytes g c =
    let f = few (line_cells (line_view c.args.line.now).bytes) c.args.from.now c.parts_of-parts.result _ _ c.parts_of-parts.ensures.parts c.requires.class c.requires.few_bytes in
    omega (arith, f, ap (λ (t : Tally). t.bytes) c.none-none.ensures, ap (λ (t : Tally). t.bytes) c.count_in_part-targets.ensures)

pub count_in_part-requires-clause-few_bytes : goal.count_in_part-requires-clause-few_bytes
count_in_part-requires-clause-few_bytes g c =
    let f = few (line_cells (line_view c.args.line.now).bytes) c.args.from.now c.parts_of-parts.result _ _ c.parts_of-parts.ensures.parts c.requires.class c.requires.few_bytes in
    omega (arith, f, ap (λ (t : Tally). t.bytes) c.none-none.ensures, ap (λ (t : Tally). t.bytes) c.count_in_part-targets.ensures, ap (λ (t : Tally). t.bytes) c.count_in_part-normal.ensures)

pub returns : goal.returns
returns g c =
    let cs = line_cells (line_view c.args.line.now).bytes in
    let o = c.args.from.now in
    let p = c.parts_of-parts.result in
    let T = part_ranges cs o p.targets in
    let N = part_ranges cs o p.normal in
    let O = part_ranges cs o p.order_only in
    c.count_in_part.ensures
    ∙ (ap (λ (t : Tally). tallied t O) (c.count_in_part-normal.ensures ∙ ap (λ (t : Tally). tallied t N) (c.count_in_part-targets.ensures ∙ ap (λ (t : Tally). tallied t T) c.none-none.ensures))
    ∙ (tallied-append (tallied no_words T) N O ∙ (tallied-append no_words T (N ++ O) ∙ ap (tallied no_words) (ranges-are cs o p _ _ c.parts_of-parts.ensures.parts c.requires.class))))

pub count_in_part-targets-requires-clause-passed : goal.count_in_part-targets-requires-clause-passed
count_in_part-targets-requires-clause-passed g c passed =
    ap (λ t. is_one_of c.args.from.now (words_in (text_at t c.parts_of-parts.result.targets))) (sym c.text_of_line.ensures) ∙ c.in-Some.ensures.targets passed

pub count_in_part-normal-requires-clause-passed : goal.count_in_part-normal-requires-clause-passed
count_in_part-normal-requires-clause-passed g c passed =
    ap (λ t. is_one_of c.args.from.now (words_in (text_at t c.parts_of-parts.result.normal))) (sym c.text_of_line.ensures) ∙ c.in-Some.ensures.normal passed

pub count_in_part-requires-clause-passed : goal.count_in_part-requires-clause-passed
count_in_part-requires-clause-passed g c passed =
    ap (λ t. is_one_of c.args.from.now (words_in (text_at t c.parts_of-parts.result.order_only))) (sym c.text_of_line.ensures) ∙ c.in-Some.ensures.order_only passed

pub returns-in_default : goal.returns-in_default
returns-in_default g c =
    let cs = line_cells (line_view c.args.line.now).bytes in
    let o = c.args.from.now in
    let p = c.parts_of-parts.result in
    let within = c.parts_of-parts.ensures.within in
    let passed : (e : ℕ) → IsPassed c.first_place.result e = λ e. subst (λ place. IsPassed place e) (sym c.in_default.is) tt in
    let lacks : (s : Span) → IsWithin _ s → is_one_of o (words_in (text_at c.text_of_line.result.now s)) ≡ false → part_ranges cs o s ≡ [] =
    λ s h e. part-lacks cs s o h (ap (λ t. is_one_of o (words_in (text_at t s))) (sym c.text_of_line.ensures) ∙ e) in
    let T = lacks p.targets within.0 (c.first_place.ensures.targets (passed p.targets.end)) in
    let N = lacks p.normal within.1 (c.first_place.ensures.normal (passed p.normal.end)) in
    let O = lacks p.order_only within.2 (c.first_place.ensures.order_only (passed p.order_only.end)) in
    c.none-none.ensures
    ∙ sym (ap (tallied no_words) (sym (ranges-are cs o p _ _ c.parts_of-parts.ensures.parts c.requires.class)
    ∙ (ap (λ z. z ++ (part_ranges cs o p.normal ++ part_ranges cs o p.order_only)) T ∙ (ap (λ z. z ++ part_ranges cs o p.order_only) N ∙ O)))
    ∙ tallied-none no_words)
