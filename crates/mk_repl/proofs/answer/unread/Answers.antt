-- By what the line is.
use Rattle.std.proofs.Common.{refl, subst, inl, inr}
use Rattle.mk_script.specs.Scripts.{IsScriptFault}
use Rattle.mk_repl.proofs.answer.unread.Goals as goal

pub returns-in-NotACommand : goal.returns-in-NotACommand
returns-in-NotACommand c line shown h = inr (inr ((_, subst (λ fault. IsScriptFault line fault) c.in-NotACommand.is h), refl, refl))

pub returns-in-NoMemory : goal.returns-in-NoMemory
returns-in-NoMemory c line shown h = inr (inl (subst (λ fault. IsScriptFault line fault) c.in-NoMemory.is h, refl, refl))
