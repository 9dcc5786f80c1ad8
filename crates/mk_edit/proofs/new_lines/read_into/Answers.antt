use Rattle.std.proofs.Common.{◌≡◌, ◌∙◌, ◌||◌, sym, ap, subst, arith, rules}
use Rattle.mk_class.specs.Contexts.{Admits, context_after_located}
use Rattle.mk_class.specs.declared.class.Class.{Class}
use Rattle.std.specs.Prelude.{◌⊎◌}
use Rattle.mk_edit_language.specs.declared.refusal.Refusal.TheVariants.{NoMemory, Misread}
use Rattle.mk_tree.specs.Trees.{line_view}
use Rattle.mk_edit.specs.ExchangePlans.{AreTooDeepIn}
use Rattle.mk_edit.proofs.on_exchanges.LinesLeft.{end-same}
use Rattle.mk_edit.proofs.on_exchanges.LinesRead.{handed, read-none, read-next, read-all, refused-deep}
use Rattle.mk_edit.proofs.new_lines.read_into.Goals as goal

pub lines-init : goal.lines-init
lines-init g c = read-none c.args.place c.args.text.now c.args.patch.now c.args.meter.now c.requires.fits c.requires.room (omega (arith, c.conds-conditionals.ensures.few, c.conds-conditionals.ensures.number))

pub read_line-requires-clause-one : goal.read_line-requires-clause-one
read_line-requires-clause-one g c = (read-next _ _ _ _ _ _ _ _ _ _ _ c.in-Some.ensures.lines c.in-Some.ensures.joined c.in-Some.ensures.some c.lines.invariant).one

pub read_line-requires-clause-defines : goal.read_line-requires-clause-defines
read_line-requires-clause-defines g c = (read-next _ _ _ _ _ _ _ _ _ _ _ c.in-Some.ensures.lines c.in-Some.ensures.joined c.in-Some.ensures.some c.lines.invariant).defines

pub returns-in_err-line-clause-refused : goal.returns-in_err-line-clause-refused
returns-in_err-line-clause-refused g c =
    handed (λ q. (q ≡ NoMemory) ⊎ ((q ≡ Misread) × AreTooDeepIn c.args.place.context c.args.text.now)) _ _ c.from_residual.ensures.1
    (refused-deep c.in_err-line.ensures.refused (read-next _ _ _ _ _ _ _ _ _ _ _ c.in-Some.ensures.lines c.in-Some.ensures.joined c.in-Some.ensures.some c.lines.invariant).deep)

pub returns-in_err-line-clause-few_read : goal.returns-in_err-line-clause-few_read
returns-in_err-line-clause-few_read g c = (read-next _ _ _ _ _ _ _ _ _ _ _ c.in-Some.ensures.lines c.in-Some.ensures.joined c.in-Some.ensures.some c.lines.invariant).broken _ c.in_err-line.ensures.few_read

pub returns-in_err-line-clause-forward : goal.returns-in_err-line-clause-forward
returns-in_err-line-clause-forward g c = omega (arith, c.lines.invariant.forward, c.in_err-line.ensures.forward)

pub step-context-requires : goal.step-context-requires
step-context-requires g c =
    let N = read-next _ _ _ _ _ _ _ _ _ _ _ c.in-Some.ensures.lines c.in-Some.ensures.joined c.in-Some.ensures.some c.lines.invariant in
    subst (λ (k : Class). Admits c.lines.context k) (sym c.class-class.ensures) (N.admits (line_view c.in_ok-line.line) c.in_ok-line.ensures.line c.in_ok-line.ensures.shallow)

pub push-requires : goal.push-requires
push-requires g c = (read-next _ _ _ _ _ _ _ _ _ _ _ c.in-Some.ensures.lines c.in-Some.ensures.joined c.in-Some.ensures.some c.lines.invariant).space

pub overflow_add-at : goal.overflow_add-at
overflow_add-at g c =
    let N = read-next _ _ _ _ _ _ _ _ _ _ _ c.in-Some.ensures.lines c.in-Some.ensures.joined c.in-Some.ensures.some c.lines.invariant in
    omega (arith, N.few, c.requires.few, c.requires.fits)

pub lines-preserved : goal.lines-preserved
lines-preserved g c =
    let N = read-next _ _ _ _ _ _ _ _ _ _ _ c.in-Some.ensures.lines c.in-Some.ensures.joined c.in-Some.ensures.some c.lines.invariant in
    let L = c.in_ok-line.ensures in
    let context = c.step-context.ensures.located ∙ ap (λ (k : Class). context_after_located c.lines.context k) c.class-class.ensures in
    N.next (line_view c.in_ok-line.line) _ _ _ L.line (end-same _ _ _ _ context (ap (λ b. c.lines.has_prefix || b) c.is_of_prefix-has_prefix.ensures)) c.push.ensures L.counted L.few_read L.forward L.shallow

pub returns-clause-read : goal.returns-clause-read
returns-clause-read g c = (read-all _ _ _ _ _ _ _ _ _ (search rules) c.lines.invariant).read

pub returns-clause-counted : goal.returns-clause-counted
returns-clause-counted g c = (read-all _ _ _ _ _ _ _ _ _ (search rules) c.lines.invariant).counted

pub returns-clause-few_read : goal.returns-clause-few_read
returns-clause-few_read g c = (read-all _ _ _ _ _ _ _ _ _ (search rules) c.lines.invariant).few_read

pub returns-clause-forward : goal.returns-clause-forward
returns-clause-forward g c = c.lines.invariant.forward
