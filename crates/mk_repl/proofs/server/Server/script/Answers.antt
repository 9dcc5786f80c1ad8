use Rattle.mk_repl.proofs.ServerLemmas.{kept-script}
use Rattle.mk_repl.proofs.server.Server.script.Goals as goal

pub returns : goal.returns
returns c =
    let server = c.args.self.now in
    kept-script server.opened.text.items c.in_ok-script.field-0.items server.command_log server.session.shown c.in_ok-script.ensures.known c.in_ok-script.ensures.lines server.kept
