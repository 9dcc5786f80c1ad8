use Rattle.std.proofs.Common.{◌≡◌, ◌∙◌, refl, sym, ap, inl, ◌+◌, ◌*◌, Bool, true, false, length, arith}
use Rattle.std.specs.Prelude.{nat_lt}
use Rattle.mk_lines.specs.Limits.{max_text}
use Rattle.mk_tree.specs.LocatedLines.{size_of}
use Rattle.mk_tree.specs.Trees.{line_view}
use Rattle.mk_edit_language.specs.EditViews.{edit_of}
use Rattle.mk_edit_parts.specs.RenamedRanges.{bytes_in}
use Rattle.mk_edit_parts.specs.ReplacedPrerequisites.{prerequisite_ranges}
use Rattle.mk_edit_parts.specs.declared.tally.Tally.{Tally}
use Rattle.mk_edit.proofs.on_plans.CausePlans.{long-as}
use Rattle.mk_edit.proofs.on_plans.PlanLemmas.{refused-first, memory-first, moves-made}
use Rattle.mk_edit.proofs.on_prerequisites.ReplacePrereqPlans.{IsReplacePrereqOf, replace_prereq-of}
use Rattle.mk_edit.proofs.replace_prereq.plan_replace_prereq.Given.{Over}
use Rattle.mk_edit.proofs.replace_prereq.plan_replace_prereq.Goals.{In_ok-place, After-is_too_long}
use Rattle.mk_edit.proofs.replace_prereq.plan_replace_prereq.Goals as goal

rule : (g : Over) (c : In_ok-place g) → IsReplacePrereqOf c.args.old.now c.args.new.now (edit_of c.args.edit.now) c.args.doc.now c.in_ok-place.place
rule g c = replace_prereq-of _ _ _ _ _ c.requires.faithful c.requires.kind c.in_ok-place.ensures.found

pub line-line-requires : goal.line-line-requires
line-line-requires g c = (rule g (goal.at.line-line-requires g c).In_ok-place).within

pub header_of-header-requires : goal.header_of-header-requires
header_of-header-requires g c = (rule g (goal.at.header_of-header-requires g c).In_ok-place).rule (line_view c.line-line.result.now) c.line-line.ensures

pub is_prerequisite-requires : goal.is_prerequisite-requires
is_prerequisite-requires g c =
    let U = rule g (goal.at.is_prerequisite-requires g c).In_ok-place in
    record { header = U.parts; seen = U.seen _ _ c.line-line.ensures c.header_of-header.ensures }

pub returns-then-not-is_prerequisite : goal.returns-then-not-is_prerequisite
returns-then-not-is_prerequisite g c =
    let U = rule g (goal.at.returns-then-not-is_prerequisite g c).In_ok-place in
    let S = U.seen _ _ c.line-line.ensures c.header_of-header.ensures in
    refused-first _ _ _ _ (inl (U.missing (sym c.if-not-is_prerequisite.true ∙ c.is_prerequisite.ensures U.parts S)))

pub is_prerequisite-requires-2 : goal.is_prerequisite-requires-2
is_prerequisite-requires-2 g c =
    let U = rule g (goal.at.is_prerequisite-requires-2 g c).In_ok-place in
    record { header = U.parts; seen = U.seen _ _ c.line-line.ensures c.header_of-header.ensures }

pub returns-then-is_prerequisite : goal.returns-then-is_prerequisite
returns-then-is_prerequisite g c =
    let U = rule g (goal.at.returns-then-is_prerequisite g c).In_ok-place in
    let S = U.seen _ _ c.line-line.ensures c.header_of-header.ensures in
    refused-first _ _ _ _ (inl (U.listed (sym c.if-not-is_prerequisite.false ∙ c.is_prerequisite.ensures U.parts S) (sym c.if-is_prerequisite.true ∙ c.is_prerequisite-2.ensures U.parts S)))

pub count_prerequisites-count-requires-clause-header : goal.count_prerequisites-count-requires-clause-header
count_prerequisites-count-requires-clause-header g c =
    let U = rule g (goal.at.count_prerequisites-count-requires-clause-header g c).In_ok-place in
    record { header = U.parts; seen = U.seen _ _ c.line-line.ensures c.header_of-header.ensures }

pub count_prerequisites-count-requires-clause-few : goal.count_prerequisites-count-requires-clause-few
count_prerequisites-count-requires-clause-few g c =
    let U = rule g (goal.at.count_prerequisites-count-requires-clause-few g c).In_ok-place in
    omega (arith, U.few_words _ c.header_of-header.result c.size-size.ensures.few c.line-line.ensures)

pub count_prerequisites-count-requires-clause-few_bytes : goal.count_prerequisites-count-requires-clause-few_bytes
count_prerequisites-count-requires-clause-few_bytes g c =
    let U = rule g (goal.at.count_prerequisites-count-requires-clause-few_bytes g c).In_ok-place in
    omega (arith, U.few _ _ c.size-size.ensures.few c.line-line.ensures c.header_of-header.ensures)

pub is_too_long-requires-clause-few : goal.is_too_long-requires-clause-few
is_too_long-requires-clause-few g c =
    let U = rule g (goal.at.is_too_long-requires-clause-few g c).In_ok-place in
    omega (arith, U.few _ _ c.size-size.ensures.few c.line-line.ensures c.header_of-header.ensures, ap (λ (z : Tally). z.bytes) c.count_prerequisites-count.ensures)

-- whether the text would be too long
long : (g : Over) (c : After-is_too_long g) (o : Bool) → c.is_too_long.result ≡ o
    → nat_lt (max_text + bytes_in (prerequisite_ranges c.args.old.now (line_view c.line-line.result.now) c.header_of-header.result))
    (size_of c.args.doc.now + length (prerequisite_ranges c.args.old.now (line_view c.line-line.result.now) c.header_of-header.result) * length c.args.new.now) ≡ o
long g c o e =
    let rs = prerequisite_ranges c.args.old.now (line_view c.line-line.result.now) c.header_of-header.result in
    let words : c.count_prerequisites-count.result.words ≡ length rs = omega (arith, ap (λ (z : Tally). z.words) c.count_prerequisites-count.ensures) in
    let bytes : c.count_prerequisites-count.result.bytes ≡ bytes_in rs = omega (arith, ap (λ (z : Tally). z.bytes) c.count_prerequisites-count.ensures) in
    long-as c.is_too_long.result o c.count_prerequisites-count.result.words c.count_prerequisites-count.result.bytes (length c.args.new.now) c.size-size.result
    (length rs) (bytes_in rs) (length c.args.new.now) (size_of c.args.doc.now) c.is_too_long.ensures words bytes refl c.size-size.ensures.number e

pub returns-then-is_too_long : goal.returns-then-is_too_long
returns-then-is_too_long g c =
    let at = goal.at.returns-then-is_too_long g c in
    let U = rule g at.In_ok-place in
    let S = U.seen _ _ c.line-line.ensures c.header_of-header.ensures in
    refused-first _ _ _ _ (inl (U.long _ _ (sym c.if-not-is_prerequisite.false ∙ c.is_prerequisite.ensures U.parts S) (sym c.if-is_prerequisite.false ∙ c.is_prerequisite-2.ensures U.parts S)
    c.line-line.ensures c.header_of-header.ensures (long g at.After-is_too_long true c.if-is_too_long.true)))

pub with_prerequisite_replaced-requires : goal.with_prerequisite_replaced-requires
with_prerequisite_replaced-requires g c =
    let U = rule g (goal.at.with_prerequisite_replaced-requires g c).In_ok-place in
    record { header = U.parts; seen = U.seen _ _ c.line-line.ensures c.header_of-header.ensures }

pub returns-in_default : goal.returns-in_default
returns-in_default g c =
    let at = goal.at.returns-in_default g c in
    let U = rule g at.In_ok-place in
    let S = U.seen _ _ c.line-line.ensures c.header_of-header.ensures in
    memory-first _ _ _ _ (U.accepted _ _ (sym c.if-not-is_prerequisite.false ∙ c.is_prerequisite.ensures U.parts S) (sym c.if-is_prerequisite.false ∙ c.is_prerequisite-2.ensures U.parts S)
    c.line-line.ensures c.header_of-header.ensures (long g at.After-is_too_long false c.if-is_too_long.false))

pub replace_line-requires : goal.replace_line-requires
replace_line-requires g c =
    let at = goal.at.replace_line-requires g c in
    let U = rule g at.In_ok-place in
    let S = U.seen _ _ c.line-line.ensures c.header_of-header.ensures in
    let R =
    U.replaced _ _ _ (sym c.if-not-is_prerequisite.false ∙ c.is_prerequisite.ensures U.parts S) (sym c.if-is_prerequisite.false ∙ c.is_prerequisite-2.ensures U.parts S)
    c.line-line.ensures c.header_of-header.ensures (long g at.After-is_too_long false c.if-is_too_long.false) (c.in-Ok.ensures U.parts S) in
    record { place = U.place; can = R.can }

pub returns : goal.returns
returns g c =
    let at = goal.at.returns g c in
    let U = rule g at.In_ok-place in
    let S = U.seen _ _ c.line-line.ensures c.header_of-header.ensures in
    let R =
    U.replaced _ _ _ (sym c.if-not-is_prerequisite.false ∙ c.is_prerequisite.ensures U.parts S) (sym c.if-is_prerequisite.false ∙ c.is_prerequisite-2.ensures U.parts S)
    c.line-line.ensures c.header_of-header.ensures (long g at.After-is_too_long false c.if-is_too_long.false) (c.in-Ok.ensures U.parts S) in
    moves-made _ _ _ _ _ _ _ R.planned R.costs c.replace_line.ensures.moves c.replace_line.ensures.reads
