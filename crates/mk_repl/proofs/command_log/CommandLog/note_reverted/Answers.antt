use Rattle.std.proofs.Common.{◌<◌, ◌≤◌, length, rules}
use Rattle.mk_repl.proofs.LogLemmas.{all-kept, none-undone, one-undone}
use Rattle.mk_repl.proofs.command_log.CommandLog.note_reverted.Goals as goal

pub loop-self-init : goal.loop-self-init
loop-self-init c = none-undone c.args.self.now

pub loop-self-preserved : goal.loop-self-preserved
loop-self-preserved c =
    let some : c.loop-self.self.floor < length c.loop-self.self.done.items = search rules in
    one-undone c.args.self.now c.loop-self.self c.undone-noted.new.self c.keep.new.self c.undone-noted.result c.loop-self.invariant some
    c.undone-noted.ensures.follows c.undone-noted.ensures.same c.keep.ensures

pub returns : goal.returns
returns c =
    let none : length c.loop-self.self.done.items ≤ c.loop-self.self.floor = search rules in
    all-kept c.args.self.now c.loop-self.self c.loop-self.invariant none
