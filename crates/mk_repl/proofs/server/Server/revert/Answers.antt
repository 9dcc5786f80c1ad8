use Rattle.std.proofs.Common.{◌∙◌, sym}
use Rattle.mk_repl.proofs.ServerLemmas.{if-err, if-ok, same-kept, undone-kept}
use Rattle.mk_repl.proofs.server.Server.revert.Goals as goal

pub invariant_of-self : goal.invariant_of-self
invariant_of-self c =
    let old = c.args.self.now in
    let reverted = c.revert-reverted in
    let is_ok = sym c.is_ok.ensures.value ∙ c.if-is_ok.true in
    record { kept = undone-kept old.opened.text.items old.command_log c.note_reverted.new.self old.session.shown reverted.new.session.shown c.note_reverted.ensures (if-ok reverted.result is_ok reverted.ensures.shut) (if-ok reverted.result is_ok reverted.ensures.undone) old.kept }

pub invariant_of-self-else-is_ok : goal.invariant_of-self-else-is_ok
invariant_of-self-else-is_ok c =
    let old = c.args.self.now in
    let reverted = c.revert-reverted in
    record { kept = same-kept old.opened.text.items old.command_log old.session.shown reverted.new.session.shown (if-err reverted.result (sym c.is_ok.ensures.value ∙ c.if-is_ok.false) reverted.ensures.same) old.kept }
