use Rattle.std.proofs.Common.{◌≡◌, ◌∙◌, ap, subst, sym}
use Rattle.mk_edit_language.specs.Edits.{ExchangeLines}
use Rattle.mk_edit_language.specs.EditViews.{edit_of, lines_of, site_of}
use Rattle.mk_edit_parts.specs.LineRunsFound.{block_seen}
use Rattle.mk_edit_parts.specs.Windows.{IsKnown}
use Rattle.mk_edit.specs.Planned.{Plans}
use Rattle.mk_edit.proofs.planning.plan_with.Goals as goal

pub returns-in-RemoveAssign : goal.returns-in-RemoveAssign
returns-in-RemoveAssign g c = c.plan_remove_assign.ensures c.args.meter.now

pub returns-in-RemoveRule : goal.returns-in-RemoveRule
returns-in-RemoveRule g c = c.plan_remove_rule.ensures c.args.meter.now

pub returns-in-RemoveRecipe : goal.returns-in-RemoveRecipe
returns-in-RemoveRecipe g c = c.plan_remove_recipe.ensures c.args.meter.now

pub returns-in-ExchangeLines : goal.returns-in-ExchangeLines
returns-in-ExchangeLines g c =
    let site = site_of c.in-ExchangeLines.site in
    let lines : block_seen c.block_of.result ≡ lines_of c.in-ExchangeLines.block = c.block_of.ensures in
    let edit : edit_of c.args.edit.now ≡ ExchangeLines site (lines_of c.in-ExchangeLines.block) = ap edit_of c.in-ExchangeLines.is in
    subst (λ e. Plans e c.args.doc.now c.args.meter.now c.plan_lines.new.meter c.plan_lines.result) (ap (ExchangeLines site) lines ∙ sym edit) c.plan_lines.ensures

pub plan_lines-requires-clause-known : goal.plan_lines-requires-clause-known
plan_lines-requires-clause-known g c =
    let site = site_of c.in-ExchangeLines.site in
    let lines : block_seen c.block_of.result ≡ lines_of c.in-ExchangeLines.block = c.block_of.ensures in
    subst (λ e. IsKnown e c.args.doc.now c.args.known.now) (ap edit_of c.in-ExchangeLines.is ∙ ap (ExchangeLines site) (sym lines)) c.requires.known
