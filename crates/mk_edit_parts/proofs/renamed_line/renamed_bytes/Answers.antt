use Rattle.std.proofs.Common.{◌≡◌, ◌∙◌, sym, ap, subst, arith, [], ◌∷◌, ◌++◌, length, drop}
use Rattle.std.specs.Prelude.{IfOk}
use Rattle.mk_lines.specs.Cells.{line_cells}
use Rattle.mk_tree.specs.Trees.{line_view}
use Rattle.mk_edit_parts.specs.RenamedRanges.{part_ranges, renamed_ranges}
use Rattle.mk_edit_parts.specs.RenamedTexts.{AreApart, rewritten}
use Rattle.mk_edit_parts.proofs.on_renaming.RangeLemmas.{only-counted, ranges-are}
use Rattle.mk_edit_parts.proofs.on_renaming.WrittenLemmas.{AreWritten, three-written, parts-joined}
use Rattle.mk_edit_parts.proofs.renamed_line.renamed_bytes.Goals as goal
use Rattle.mk_edit_parts.proofs.renamed_line.renamed_bytes.Goals.{After-parts_of-parts}

-- the words of the three parts stand apart, and are written one part after the other
apart : (g : _) (c : After-parts_of-parts g) → AreWritten (line_view c.args.line.now).bytes c.args.to.now (part_ranges (line_cells (line_view c.args.line.now).bytes) c.args.from.now c.parts_of-parts.result.targets)
    (part_ranges (line_cells (line_view c.args.line.now).bytes) c.args.from.now c.parts_of-parts.result.normal) (part_ranges (line_cells (line_view c.args.line.now).bytes) c.args.from.now c.parts_of-parts.result.order_only)
apart g c =
    let l = (line_view c.args.line.now).bytes in
    three-written l c.args.to.now _ _ _ (subst (AreApart 0 (length l)) (sym (ranges-are (line_cells l) c.args.from.now c.parts_of-parts.result _ _ c.parts_of-parts.ensures.parts c.requires.class)) c.requires.apart)

pub write_part-requires-clause-apart : goal.write_part-requires-clause-apart
write_part-requires-clause-apart g c = (apart g (goal.at.write_part-requires-clause-apart g c).After-parts_of-parts).first

pub write_part-requires-2-clause-apart : goal.write_part-requires-2-clause-apart
write_part-requires-2-clause-apart g c = rw c.in_ok-targets_end.ensures.end (apart g (goal.at.write_part-requires-2-clause-apart g c).After-parts_of-parts).second

pub write_part-requires-3-clause-apart : goal.write_part-requires-3-clause-apart
write_part-requires-3-clause-apart g c = rw (c.in_ok-normal_end.ensures.end, c.in_ok-targets_end.ensures.end) (apart g (goal.at.write_part-requires-3-clause-apart g c).After-parts_of-parts).third

pub rest-requires : goal.rest-requires
rest-requires g c =
    rw (c.in_ok-end.ensures.end, c.in_ok-normal_end.ensures.end, c.in_ok-targets_end.ensures.end) (let within = (apart g (goal.at.rest-requires g c).After-parts_of-parts).within in omega (arith, within, ap length c.bytes-2.ensures.bytes))

pub returns : goal.returns
returns g c =
    let l = (line_view c.args.line.now).bytes in
    let cs = line_cells l in
    let o = c.args.from.now in
    let n = c.args.to.now in
    let p = c.parts_of-parts.result in
    let a = part_ranges cs o p.targets in
    let b = part_ranges cs o p.normal in
    let d = part_ranges cs o p.order_only in
    let W = apart g (goal.at.returns g c).After-parts_of-parts in
    let all : c.extend_from_slice.new.self.items ≡ c.write_part-3.new.bytes.items ++ drop c.in_ok-end.end l = c.in_ok-extend_from_slice.ensures.items ∙ ap (λ z. c.write_part-3.new.bytes.items ++ z) (c.rest.ensures ∙ ap (drop c.in_ok-end.end) c.bytes-2.ensures.bytes) in
    parts-joined l n a b d c.in_ok-bytes.bytes.items c.write_part.new.bytes.items c.write_part-2.new.bytes.items c.write_part-3.new.bytes.items c.extend_from_slice.new.self.items
    c.in_ok-targets_end.targets_end c.in_ok-normal_end.normal_end c.in_ok-end.end W c.in_ok-bytes.ensures.items c.in_ok-targets_end.ensures.end c.in_ok-normal_end.ensures.end c.in_ok-end.ensures.end
    c.in_ok-targets_end.ensures.written c.in_ok-normal_end.ensures.written c.in_ok-end.ensures.written all
    ∙ ap (rewritten l n) (ranges-are cs o p _ _ c.parts_of-parts.ensures.parts c.requires.class)

pub rewritten-requires : goal.rewritten-requires
rewritten-requires g c =
    let one = only-counted c.args.tally _ _ c.requires.tally c.in-1-Some.is-0 c.in-1-Some.is-1 in
    subst (λ t. AreApart 0 (length t) (c.in-1-Some.word ∷ [])) (sym c.bytes.ensures.bytes) (subst (AreApart 0 (length (line_view c.args.line.now).bytes)) one c.requires.apart)

pub returns-in-1-Some : goal.returns-in-1-Some
returns-in-1-Some g c =
    let l = (line_view c.args.line.now).bytes in
    let n = c.args.to.now in
    let w = c.in-1-Some.word in
    let one : renamed_ranges c.args.from.now (line_view c.args.line.now) ≡ w ∷ [] = only-counted c.args.tally _ _ c.requires.tally c.in-1-Some.is-0 c.in-1-Some.is-1 in
    subst (λ ss. IfOk c.rewritten.result (λ bytes. bytes.items ≡ rewritten l n ss)) (sym one)
    (subst (λ t. IfOk c.rewritten.result (λ bytes. bytes.items ≡ rewritten t n (w ∷ []))) c.bytes.ensures.bytes c.rewritten.ensures)
