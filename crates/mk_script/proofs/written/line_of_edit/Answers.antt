use Rattle.std.proofs.Common.{sym, ◌∙◌}
use Rattle.mk_edit_language.specs.EditViews.{edit_of}
use Rattle.mk_script.proofs.on_commands.BlockLemmas.{never-said}
use Rattle.mk_script.proofs.on_written.WrittenScripts.{edit-only, text-lost, text-script}
use Rattle.mk_script.proofs.written.line_of_edit.Goals as goal

pub returns-clause-text : goal.returns-clause-text
returns-clause-text g c =
    text-script (edit_of c.args.edit.now) c.in_ok-text.text.line.items c.in_ok-text.text.below.items c.in_ok-script.script.items c.in_ok-text.ensures c.in_ok-script.ensures

pub returns-clause-read : goal.returns-clause-read
returns-clause-read g c =
    edit-only (edit_of c.args.edit.now) c.in_ok-text.text.line.items c.in_ok-text.text.below.items c.in_ok-script.script.items c.in_ok-text.ensures (sym c.is_lost.ensures ∙ c.if-is_lost.false)
    c.in_ok-script.ensures

pub returns-clause-kept : goal.returns-clause-kept
returns-clause-kept g c =
    sym (text-lost (edit_of c.args.edit.now) c.in_ok-text.text.line.items c.in_ok-text.text.below.items c.in_ok-text.ensures) ∙ (sym c.is_lost.ensures ∙ c.if-is_lost.false)

pub returns-then-is_lost-clause-feed : goal.returns-then-is_lost-clause-feed
returns-then-is_lost-clause-feed g c =
    λ is. sym (text-lost (edit_of c.args.edit.now) c.in_ok-text.text.line.items c.in_ok-text.text.below.items c.in_ok-text.ensures) ∙ (sym c.is_lost.ensures ∙ c.if-is_lost.true)

pub returns-then-has_no_command-clause-unsaid : goal.returns-then-has_no_command-clause-unsaid
returns-then-has_no_command-clause-unsaid g c = λ is said below h. never-said (edit_of c.args.edit.now) (sym c.has_no_command.ensures ∙ c.if-has_no_command.true) said below h
