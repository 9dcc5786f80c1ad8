use Rattle.std.proofs.Common.{◌∙◌, sym, inl}
use Rattle.mk_tree.specs.Trees.{line_view}
use Rattle.mk_edit_language.specs.EditViews.{edit_of}
use Rattle.mk_edit.proofs.on_plans.PlanLemmas.{refused-first, memory-first, moves-made}
use Rattle.mk_edit.proofs.on_prerequisites.RemovePrereqPlans.{IsRemovePrereqOf, remove_prereq-of}
use Rattle.mk_edit.proofs.remove_prereq.plan_remove_prereq.Given.{Over}
use Rattle.mk_edit.proofs.remove_prereq.plan_remove_prereq.Goals.{In_ok-place}
use Rattle.mk_edit.proofs.remove_prereq.plan_remove_prereq.Goals as goal

rule : (g : Over) (c : In_ok-place g) → IsRemovePrereqOf c.args.word.now (edit_of c.args.edit.now) c.args.doc.now c.in_ok-place.place
rule g c = remove_prereq-of _ _ _ _ c.requires.faithful c.requires.kind c.in_ok-place.ensures.found

pub line-line-requires : goal.line-line-requires
line-line-requires g c = (rule g (goal.at.line-line-requires g c).In_ok-place).within

pub header_of-header-requires : goal.header_of-header-requires
header_of-header-requires g c = (rule g (goal.at.header_of-header-requires g c).In_ok-place).rule (line_view c.line-line.result.now) c.line-line.ensures

pub is_prerequisite-requires : goal.is_prerequisite-requires
is_prerequisite-requires g c =
    let U = rule g (goal.at.is_prerequisite-requires g c).In_ok-place in
    record { header = U.parts; seen = U.seen _ _ c.line-line.ensures c.header_of-header.ensures }

pub returns-then-not-is_prerequisite : goal.returns-then-not-is_prerequisite
returns-then-not-is_prerequisite g c =
    let U = rule g (goal.at.returns-then-not-is_prerequisite g c).In_ok-place in
    let S = U.seen _ _ c.line-line.ensures c.header_of-header.ensures in
    refused-first _ _ _ _ (inl (U.missing (sym c.if-not-is_prerequisite.true ∙ c.is_prerequisite.ensures U.parts S)))

pub without_prerequisite-requires : goal.without_prerequisite-requires
without_prerequisite-requires g c =
    let U = rule g (goal.at.without_prerequisite-requires g c).In_ok-place in
    record { header = U.parts; seen = U.seen _ _ c.line-line.ensures c.header_of-header.ensures }

pub returns-in_default : goal.returns-in_default
returns-in_default g c =
    let U = rule g (goal.at.returns-in_default g c).In_ok-place in
    let S = U.seen _ _ c.line-line.ensures c.header_of-header.ensures in
    memory-first _ _ _ _ (U.accepted c.size-size.ensures.few (sym c.if-not-is_prerequisite.false ∙ c.is_prerequisite.ensures U.parts S))

pub replace_line-requires : goal.replace_line-requires
replace_line-requires g c =
    let U = rule g (goal.at.replace_line-requires g c).In_ok-place in
    let S = U.seen _ _ c.line-line.ensures c.header_of-header.ensures in
    let q = sym c.if-not-is_prerequisite.false ∙ c.is_prerequisite.ensures U.parts S in
    let R = U.replaced _ _ _ c.size-size.ensures.few q c.line-line.ensures c.header_of-header.ensures (c.in-Ok.ensures U.parts S) in
    record { place = U.place; can = R.can }

pub returns : goal.returns
returns g c =
    let U = rule g (goal.at.returns g c).In_ok-place in
    let S = U.seen _ _ c.line-line.ensures c.header_of-header.ensures in
    let q = sym c.if-not-is_prerequisite.false ∙ c.is_prerequisite.ensures U.parts S in
    let R = U.replaced _ _ _ c.size-size.ensures.few q c.line-line.ensures c.header_of-header.ensures (c.in-Ok.ensures U.parts S) in
    moves-made _ _ _ _ _ _ _ R.planned R.costs c.replace_line.ensures.moves c.replace_line.ensures.reads
