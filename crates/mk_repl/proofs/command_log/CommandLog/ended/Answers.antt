use Rattle.std.proofs.Common.{◌≡◌, ◌<◌, length, refl, rules, Some}
use Rattle.std.proofs.lemmas.Result.{on_ok_weaker}
use Rattle.mk_repl.proofs.LogLemmas.{end-follows}
use Rattle.mk_repl.specs.CommandLogs.{edits_of}
use Rattle.mk_repl.proofs.command_log.CommandLog.ended.Goals as goal

pub returns-in_ok-end-in-Some-clause-follows : goal.returns-in_ok-end-in-Some-clause-follows
returns-in_ok-end-in-Some-clause-follows c =
    let group = c.in-Some.group in
    let was : c.args.self.now.group ≡ Some group = cc in
    let some : 0 < length group.edits.items = search rules in
    on_ok_weaker c.push.result
    (end-follows (edits_of c.end.new.self) c.args.self.now (record c.args.self.now { group = c.take.new.self }) c.push.new.self group was some c.in_ok-end-in-Some.ensures refl c.take.ensures.after)
    c.push.ensures.closes
