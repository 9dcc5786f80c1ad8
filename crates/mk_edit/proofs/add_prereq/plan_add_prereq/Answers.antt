use Rattle.std.proofs.Common.{◌∙◌, sym, inl, arith}
use Rattle.mk_tree.specs.Trees.{line_view}
use Rattle.mk_edit_language.specs.EditViews.{edit_of}
use Rattle.mk_edit.proofs.on_plans.PlanLemmas.{refused-first, memory-first, moves-made}
use Rattle.mk_edit.proofs.on_plans.RangePlans.{line-short}
use Rattle.mk_edit.proofs.on_prerequisites.AddPrereqPlans.{IsAddPrereqOf, add_prereq-of, word-short}
use Rattle.mk_edit.proofs.add_prereq.plan_add_prereq.Given.{Over}
use Rattle.mk_edit.proofs.add_prereq.plan_add_prereq.Goals.{In_ok-place}
use Rattle.mk_edit.proofs.add_prereq.plan_add_prereq.Goals as goal

rule : (g : Over) (c : In_ok-place g) → IsAddPrereqOf c.args.order c.args.word.now (edit_of c.args.edit.now) c.args.doc.now c.in_ok-place.place
rule g c = add_prereq-of _ _ _ _ _ c.requires.faithful c.requires.kind c.in_ok-place.ensures.found

pub line-line-requires : goal.line-line-requires
line-line-requires g c = (rule g (goal.at.line-line-requires g c).In_ok-place).within

pub header_of-header-requires : goal.header_of-header-requires
header_of-header-requires g c = (rule g (goal.at.header_of-header-requires g c).In_ok-place).rule (line_view c.line-line.result.now) c.line-line.ensures

pub is_in_list-requires : goal.is_in_list-requires
is_in_list-requires g c =
    let U = rule g (goal.at.is_in_list-requires g c).In_ok-place in
    record { header = U.parts; seen = U.seen _ _ c.line-line.ensures c.header_of-header.ensures }

pub returns-then-is_in_list : goal.returns-then-is_in_list
returns-then-is_in_list g c =
    let U = rule g (goal.at.returns-then-is_in_list g c).In_ok-place in
    let S = U.seen _ _ c.line-line.ensures c.header_of-header.ensures in
    refused-first _ _ _ _ (inl (U.listed (sym c.if-is_in_list.true ∙ c.is_in_list.ensures U.parts S)))

pub len_of_new-requires : goal.len_of_new-requires
len_of_new-requires g c =
    let U = rule g (goal.at.len_of_new-requires g c).In_ok-place in
    record { header = U.parts; seen = U.seen _ _ c.line-line.ensures c.header_of-header.ensures }

pub returns-then-size-len_of_new-gt-MAX_TEXT : goal.returns-then-size-len_of_new-gt-MAX_TEXT
returns-then-size-len_of_new-gt-MAX_TEXT g c =
    let U = rule g (goal.at.returns-then-size-len_of_new-gt-MAX_TEXT g c).In_ok-place in
    let S = U.seen _ _ c.line-line.ensures c.header_of-header.ensures in
    let q = sym c.if-is_in_list.false ∙ c.is_in_list.ensures U.parts S in
    refused-first _ _ _ _ (inl (U.long _ _ q c.line-line.ensures c.header_of-header.ensures (omega (arith, c.size-size.ensures.number, c.len_of_new.ensures, c.if-size-len_of_new-gt-MAX_TEXT.true))))

pub with_prerequisite-requires : goal.with_prerequisite-requires
with_prerequisite-requires g c =
    let U = rule g (goal.at.with_prerequisite-requires g c).In_ok-place in
    let l = line_view c.line-line.result.now in
    record {
      header = record { header = U.parts; seen = U.seen _ _ c.line-line.ensures c.header_of-header.ensures };
      short = omega (arith, c.size-size.ensures.number, c.len_of_new.ensures, c.if-size-len_of_new-gt-MAX_TEXT.false, line-short c.args.doc.now c.in_ok-place.place.at l c.line-line.ensures, word-short c.args.order c.args.word.now l c.header_of-header.result);
    }

pub returns-in_default : goal.returns-in_default
returns-in_default g c =
    let U = rule g (goal.at.returns-in_default g c).In_ok-place in
    let S = U.seen _ _ c.line-line.ensures c.header_of-header.ensures in
    let q = sym c.if-is_in_list.false ∙ c.is_in_list.ensures U.parts S in
    memory-first _ _ _ _ (U.accepted _ _ q c.line-line.ensures c.header_of-header.ensures (omega (arith, c.size-size.ensures.number, c.len_of_new.ensures, c.if-size-len_of_new-gt-MAX_TEXT.false)))

pub replace_line-requires : goal.replace_line-requires
replace_line-requires g c =
    let U = rule g (goal.at.replace_line-requires g c).In_ok-place in
    let S = U.seen _ _ c.line-line.ensures c.header_of-header.ensures in
    let q = sym c.if-is_in_list.false ∙ c.is_in_list.ensures U.parts S in
    let R = U.replaced _ _ _ q c.line-line.ensures c.header_of-header.ensures (omega (arith, c.size-size.ensures.number, c.len_of_new.ensures, c.if-size-len_of_new-gt-MAX_TEXT.false)) (c.in-Ok.ensures U.parts S) in
    record { place = U.place; can = R.can }

pub returns : goal.returns
returns g c =
    let U = rule g (goal.at.returns g c).In_ok-place in
    let S = U.seen _ _ c.line-line.ensures c.header_of-header.ensures in
    let q = sym c.if-is_in_list.false ∙ c.is_in_list.ensures U.parts S in
    let R = U.replaced _ _ _ q c.line-line.ensures c.header_of-header.ensures (omega (arith, c.size-size.ensures.number, c.len_of_new.ensures, c.if-size-len_of_new-gt-MAX_TEXT.false)) (c.in-Ok.ensures U.parts S) in
    moves-made _ _ _ _ _ _ _ R.planned R.costs c.replace_line.ensures.moves c.replace_line.ensures.reads
