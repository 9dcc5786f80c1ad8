use Rattle.std.proofs.Common.{◌≡◌, ◌∙◌, [], ◌∷◌, ◌++◌, ap, refl, Some}
use Rattle.std.proofs.lemmas.Result.{on_ok_weaker}
use Rattle.mk_edit_language.specs.EditViews.{edit_of}
use Rattle.mk_repl.proofs.LogLemmas.{alone-follows, group-follows, shut}
use Rattle.mk_repl.specs.CommandLogs.{edits_of}
use Rattle.mk_repl.proofs.command_log.CommandLog.edited.Goals as goal

pub returns-in-Some-clause-follows : goal.returns-in-Some-clause-follows
returns-in-Some-clause-follows c =
    let old = c.args.self.now in
    let new = record old { undone = c.clear.new.self; group = Some c.push.new.self } in
    let was : old.group ≡ Some c.in-Some.group = c.in-Some.is in
    on_ok_weaker c.push.result (λ put. group-follows (edit_of c.args.edit) old new c.in-Some.group c.push.new.self was put refl c.clear.ensures.items) c.push.ensures

pub returns-clause-follows : goal.returns-clause-follows
returns-clause-follows c =
    let old = c.args.self.now in
    let mid = record old { undone = c.clear.new.self } in
    let one : edits_of c.push-2.new.self ≡ edit_of c.args.edit ∷ [] = c.in_ok-push.ensures ∙ ap (λ es. es ++ edit_of c.args.edit ∷ []) c.new-member.ensures in
    on_ok_weaker c.push-3.result
    (alone-follows (edit_of c.args.edit) (edits_of c.push-2.new.self) old mid c.push-3.new.self (shut old.group c.in_default.not-Some) one refl c.clear.ensures.items)
    c.push-3.ensures.closes
