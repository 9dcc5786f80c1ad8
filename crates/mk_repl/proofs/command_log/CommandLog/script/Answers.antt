use Rattle.std.proofs.Common.{◌≡◌, ◌<◌, get_or, length, map, rules, subst}
use Rattle.mk_edit_language.specs.EditViews.{edit_of}
use Rattle.mk_repl.specs.CommandLogs.{AddsLines}
use Rattle.mk_repl.proofs.ScriptLemmas.{adds-member}
use Rattle.mk_repl.proofs.command_log.CommandLog.script.Goals as goal

pub loop-member-preserved : goal.loop-member-preserved
loop-member-preserved c =
    let within : c.loop-member.member-index < length c.args.self.now.done.items = search rules in
    let is : c.member-item.result ≡ get_or c.args.self.now.done.items c.loop-member.member-index c.member-item.result = let item = c.member-item.is in let whole = c.deref-member-items.ensures.value in cc in
    adds-member c.args.self.now.done.items c.loop-member.member-index c.member-item.result c.loop-member.script.items c.push_edits.new.script.items within is c.loop-member.invariant
    (subst (λ es. AddsLines c.loop-member.script.items (map edit_of es) c.push_edits.new.script.items) c.as_slice.ensures.value c.in_ok-push_edits.ensures)
