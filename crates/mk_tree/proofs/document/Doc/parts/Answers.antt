use Rattle.std.proofs.Common.{◌≡◌, ◌-◌, sym, arith, length, take, drop}
use Rattle.std.proofs.lemmas.List.{length-take-le, length-drop, take_all}
use Rattle.mk_tree.specs.Origins.{AreUntouched}
use Rattle.mk_tree.proofs.OriginLemmas as origin
use Rattle.mk_tree.proofs.document.Doc.parts.Goals as goal

pub slice_bounds-result-end-2 : goal.slice_bounds-result-end-2
slice_bounds-result-end-2 g c =
    let o = c.self.inside.origin in
    let u : AreUntouched c.text-text.result.now o.first o.last c.args.self.now = rw (c.text-text.ensures, ← c.self.view_is) c.self.invariant.2 in
    let (front, end, whole) = origin.parts c.text-text.result.now o.first o.last c.min-last.result _ _ _ c.args.self.now u (omega (arith, c.min-last.ensures, c.len-lines.ensures.number)) (omega (arith, c.len-lines.ensures.number)) c.sizes_around-front.ensures.before c.sizes_around-front.ensures.after in
    sym (length-take-le c.sizes_around-front.result.0 c.text-text.result.now front)

pub overflow_sub-result : goal.overflow_sub-result
overflow_sub-result g c =
    let o = c.self.inside.origin in
    let u : AreUntouched c.text-text.result.now o.first o.last c.args.self.now = rw (c.text-text.ensures, ← c.self.view_is) c.self.invariant.2 in
    let (front, end, whole) = origin.parts c.text-text.result.now o.first o.last c.min-last.result _ _ _ c.args.self.now u (omega (arith, c.min-last.ensures, c.len-lines.ensures.number)) (omega (arith, c.len-lines.ensures.number)) c.sizes_around-front.ensures.before c.sizes_around-front.ensures.after in
    end

pub returns-clause-whole : goal.returns-clause-whole
returns-clause-whole g c =
    let o = c.self.inside.origin in
    let u : AreUntouched c.text-text.result.now o.first o.last c.args.self.now = rw (c.text-text.ensures, ← c.self.view_is) c.self.invariant.2 in
    let (front, end, whole) = origin.parts c.text-text.result.now o.first o.last c.min-last.result _ _ _ c.args.self.now u (omega (arith, c.min-last.ensures, c.len-lines.ensures.number)) (omega (arith, c.len-lines.ensures.number)) c.sizes_around-front.ensures.before c.sizes_around-front.ensures.after in
    let text = c.text-text.result.now in
    let all : take (length text - (length text - c.sizes_around-front.result.1)) (drop (length text - c.sizes_around-front.result.1) text) ≡ drop (length text - c.sizes_around-front.result.1) text =
    take_all (length text - (length text - c.sizes_around-front.result.1)) (drop (length text - c.sizes_around-front.result.1) text) (omega (arith, length-drop (length text - c.sizes_around-front.result.1) text)) in
    rw all whole
