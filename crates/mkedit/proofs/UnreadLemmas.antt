-- A makefile that could not be read has no text that goes out.
use Rattle.std.proofs.Common.{◌≡◌, refl, Bool, false}
use Rattle.mk_lines.specs.declared.fault.Fault.{Fault}
use Rattle.mk_lines.specs.declared.fault.Fault.TheVariants as fault
use Rattle.mk_run.specs.Outcome.{is_printed, outcome_of}

pub unread-unprinted : (f : Fault) (k : Bool) → is_printed (outcome_of f) k ≡ false
unread-unprinted fault.NoMemory k = refl
unread-unprinted fault.TooLong k = refl
unread-unprinted fault.TooDeep k = refl
unread-unprinted fault.BadDepth k = refl
unread-unprinted fault.Read k = refl
unread-unprinted fault.Write k = refl
