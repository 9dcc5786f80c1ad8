use Rattle.std.proofs.Common.{arith, length, ap}
use Rattle.mk_diff.specs.Stretches.{first_old_start, shown}
use Rattle.mk_diff.proofs.ContextLemmas.{hunk-at, limit-is}
use Rattle.mk_diff.proofs.LeadsLemmas.{Leads-order}
use Rattle.mk_diff.proofs.ShownLemmas.{length-shown}
use Rattle.mk_diff.proofs.unified.with_context.Goals as goal

pub overflow_sub-first_start : goal.overflow_sub-first_start
overflow_sub-first_start c =
    let old = shown c.args.old.now in
    let new = shown c.args.new.now in
    let below = c.args.below.now in
    let limit = limit-is old new c.args.old_at c.args.new_at c.args.changed.now below (length old) (length new) (record { old_start = 0; old_end = 0; new_start = 0; new_end = 0 }) c.requires.some c.requires.leads in
    let end = ap (first_old_start below) (length-shown c.args.old.now) in
    omega (arith, limit, end, c.first_start.ensures)

pub returns : goal.returns
returns c =
    let old = shown c.args.old.now in
    let new = shown c.args.new.now in
    let below = c.args.below.now in
    let end = ap (first_old_start below) (length-shown c.args.old.now) in
    hunk-at old new c.args.old_at c.args.new_at c.args.changed.now below (record { old_start = 0; old_end = 0; new_start = 0; new_end = 0 }) c.at_most_context-above.result c.at_most_context-under.result
    c.requires.some c.requires.leads c.requires.near c.requires.far c.requires.room
    c.at_most_context-above.ensures.few c.at_most_context-above.ensures.within c.at_most_context-above.ensures.all
    c.at_most_context-under.ensures.few (omega (arith, end, c.first_start.ensures, c.at_most_context-under.ensures.within))
    (λ less. c.at_most_context-under.ensures.all (omega (arith, end, c.first_start.ensures, less)))

pub overflow_add-result-2 : goal.overflow_add-result-2
overflow_add-result-2 c =
    let old = shown c.args.old.now in
    let new = shown c.args.new.now in
    let below = c.args.below.now in
    let end = ap (first_old_start below) (length-shown c.args.old.now) in
    let is = hunk-at old new c.args.old_at c.args.new_at c.args.changed.now below (record { old_start = 0; old_end = 0; new_start = 0; new_end = 0 }) c.at_most_context-above.result c.at_most_context-under.result
    c.requires.some c.requires.leads c.requires.near c.requires.far c.requires.room
    c.at_most_context-above.ensures.few c.at_most_context-above.ensures.within c.at_most_context-above.ensures.all
    c.at_most_context-under.ensures.few (omega (arith, end, c.first_start.ensures, c.at_most_context-under.ensures.within))
    (λ less. c.at_most_context-under.ensures.all (omega (arith, end, c.first_start.ensures, less))) in
    let order = Leads-order old new 0 _ _ below (length old) (length new) is.rest in
    omega (arith, order.1, length-shown c.args.new.now)
