use Rattle.std.proofs.Common.{◌∙◌, arith}
use Rattle.mk_edit_parts.proofs.on_renaming.WordGlances.{next-blank, passed-over, search-begins, search-ends, search-goes_on, search-over}
use Rattle.mk_edit_parts.proofs.glance.first_blank.Goals as goal
use Rattle.mk_edit_parts.proofs.glance.first_blank.Goals.{else-blank-range-2-via-then-blank-range-2+else-stands_at, else-blank-range-2-via-else-blank-range-2}

pub blanks-init : goal.blanks-init
blanks-init c = (tt, tt, search-begins c.args.text.now c.args.word.now c.args.parts c.args.range.start _ (c.into_iter-blank-iterator.ensures.into_iter_gives ∙ c.memchr2_iter-blank-items.ensures.value))

pub returns-then-blank-range-clause-none : goal.returns-then-blank-range-clause-none
returns-then-blank-range-clause-none c none = search-ends c.args.text.now c.args.word.now c.args.parts c.args.range _ _ c.in-Some.blank c.blanks.invariant.2 c.in-Some.ensures.steps (omega (arith, c.if-blank-range.true))

pub returns-then-stands_at-clause-first : goal.returns-then-stands_at-clause-first
returns-then-stands_at-clause-first c = passed-over c.args.text.now c.args.word.now c.args.parts c.args.range _ _ c.in-Some.blank c.blanks.invariant.2 c.in-Some.ensures.steps

pub stands_at-requires : goal.stands_at-requires
stands_at-requires c =
    let next = next-blank c.args.text.now c.args.word.now c.args.parts c.args.range _ _ c.in-Some.blank c.blanks.invariant.2 c.in-Some.ensures.steps in
    omega (arith, next.none.high)

pub blanks-preserved : goal.blanks-preserved
blanks-preserved c =
    let on = search-goes_on c.args.text.now c.args.word.now c.args.parts c.args.range _ _ c.in-Some.blank c.blanks.invariant.2 c.in-Some.ensures.steps in
    elim c.else-blank-range-2.branch [
      | else-blank-range-2-via-then-blank-range-2+else-stands_at w ↦ (tt, tt, on (λ low. w.stands_at.ensures w.if-stands_at.false))
      | else-blank-range-2-via-else-blank-range-2 w ↦ (tt, tt, on (λ low. absurd (omega (arith, low, w.if-blank-range-2.false))))
    ]

pub returns-clause-none : goal.returns-clause-none
returns-clause-none c none = search-over c.args.text.now c.args.word.now c.args.parts c.args.range _ c.blanks.invariant.2 c.in-None.ensures.steps.0 c.requires
