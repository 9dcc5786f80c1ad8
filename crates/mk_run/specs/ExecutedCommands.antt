-- What commands of a script come to, and commands without alternatives, which the session machine
-- executes one after the other.
-- Told in docs/PROOFS.md, "A run".
use Rattle.std.specs.Prelude.{ℕ, ◌+◌, Bool, true, false, List, [], ◌∷◌, ◌++◌, Result, Ok, Err}
use Rattle.mk_edit_language.specs.declared.refusal.Refusal.{Refusal}
use Rattle.mk_history.specs.Machine as machine
use Rattle.mk_history.specs.Shown.{Shown}
use Rattle.mk_session.specs.Sessions.{answer, session_refusal}
use Rattle.mk_script.specs.Scripts.{CommandAt}
use Rattle.mk_run.specs.Report.{report_line}

-- what commands come to: the report, how many commands were refused, and what is shown after them
pub record Executed : Type 0 where
  pub report : List ℕ
  pub refused : ℕ
  pub shown : Shown (List ℕ)

-- what no commands come to
abbrev pub at_rest : Shown (List ℕ) → Executed
at_rest s = record { report = []; refused = 0; shown = s }

-- what commands come to whose first was refused, in the line of this number: one refusal more than the
-- others, and its line in front of theirs
abbrev pub after_refusal : (line : ℕ) → machine.Refusal Refusal → Executed → Executed
after_refusal n q others =
    record others {
      report = report_line n (session_refusal q) ++ others.report;
      refused = others.refused + 1;
    }

-- What commands come to, by the answer to the first. If it is granted, the others follow from what
-- is shown then. If it is refused, nothing has changed, and the others follow if the run keeps
-- going.
abbrev pub executed_next : (keep_going : Bool) → CommandAt → (before : Shown (List ℕ))
    → (others : Shown (List ℕ) → Executed)
    → Result (Shown (List ℕ)) (machine.Refusal Refusal) → Executed
executed_next k c s others (Ok new) = others new
executed_next true c s others (Err q) = after_refusal c.line q (others s)
executed_next false c s others (Err q) = after_refusal c.line q (at_rest s)

-- what commands come to, from what is shown before them
abbrev pub executed : (keep_going : Bool) → List CommandAt → Shown (List ℕ) → Executed
executed k [] s = at_rest s
executed k (c ∷ commands) s = executed_next k c s (λ t. executed k commands t) (answer c.command s)
