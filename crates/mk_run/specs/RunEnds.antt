-- How a run of the code may end: with the result that the definitions give it, or for want of
-- memory, or because a device failed.
-- Told in docs/PROOFS.md, "A run".
use Rattle.std.specs.Prelude.{◌≡◌, ◌⊎◌, ◌↔◌, ℕ, Bool, true, false, IsTrue, List, ◌∷◌, ◌++◌, Option, Some, None, Result, Err, OnOk, IfErr, IfSome, is_ok}
use Rattle.std.specs.Io.KnownBytes.{Appends, Keeps}
use Rattle.mk_lines.specs.Device.{AppendsPrefix, TakesAtMost, count_if}
use Rattle.mk_lines.specs.declared.fault.Fault.{Fault}
use Rattle.mk_lines.specs.declared.fault.Fault.TheVariants as fault
use Rattle.mk_edit_language.specs.declared.refusal.Refusal.{Refusal}
use Rattle.mk_edit_language.specs.Edits.{Edit}
use Rattle.mk_history.specs.Machine as machine
use Rattle.mk_history.specs.Machine.{Command}
use Rattle.mk_history.specs.Shown.{Shown, shown_opened}
use Rattle.mk_session.specs.Sessions.{IsBadDepth, Seen, answer, IsUnrefused}
use Rattle.mk_session.specs.Calls.{takes_memory}
use Rattle.mk_script.specs.Scripts.{Step, IsScript}
use Rattle.mk_run.specs.ExecutedSteps.{Tries, step_end, executed_steps}
use Rattle.mk_run.specs.Runs.{RunResult, IsRun, ended, result_after}
use Rattle.mk_run.specs.declared.outcome.Outcome.{Outcome}
use Rattle.mk_run.specs.declared.outcome.Outcome.TheVariants.{Done, Refused, BadDepth, NoMemory, Read, Write}

-- a reader that tells its bytes has this text
abbrev pub HasText : (bytes : Option (List ℕ)) → (text : List ℕ) → Type 0
HasText bytes text = IfSome bytes (λ told. text ≡ told)

-- what is out of a sink, before and after
pub record Written : Type 0 where
  pub before : Option (List ℕ)
  pub after : Option (List ℕ)

abbrev pub written : (before after : Option (List ℕ)) → Written
written b a = record { before = b; after = a }

-- nothing went out
abbrev IsKept : Written → Type 0
IsKept w = Keeps w.before w.after

-- just this text went out
abbrev pub IsOut : Written → List ℕ → Type 0
IsOut w text = Appends w.before w.after text

-- a prefix of the text went out
abbrev pub IsPrefixOut : Written → List ℕ → Type 0
IsPrefixOut w text = AppendsPrefix w.before w.after text

-- ---- want of memory

-- The run goes on after this number of refusals.
abbrev pub GoesOn : (keep_going : Bool) → (refused : ℕ) → Type 0
GoesOn k n = k ≡ false → n ≡ 0

-- A command of one of the steps found no memory. The steps before it were executed, and this is their
-- report. The step tries the command, which takes memory, and the machine does not refuse it, but
-- perhaps for a cause that needs new lines.
pub record IsShort (keep_going : Bool) (steps : List Step) (first : Shown (List ℕ))
    (report : List ℕ) : Type 0 where
  pub earlier : List Step
  pub step : Step
  pub later : List Step
  pub command : Command Edit
  pub steps_are : steps ≡ earlier ++ step ∷ later
  pub reached : GoesOn keep_going (executed_steps keep_going earlier first).refused
  pub reported : report ≡ (executed_steps keep_going earlier first).report
  pub tries : Tries step (executed_steps keep_going earlier first).shown command
  pub takes : takes_memory command ≡ true
  pub unrefused : IsUnrefused command (answer command (executed_steps keep_going earlier first).shown)

-- A command of a run that comes to this result found no memory.
pub record IsShortRun (makefile script : List ℕ) (depth : ℕ) (keep_going : Bool)
    (result : RunResult) (report : Written) : Type 0 where
  pub steps : List Step
  pub lines : List ℕ
  pub are_steps : IsScript script steps
  pub result_is : result
      ≡ result_after keep_going (executed_steps keep_going steps (shown_opened depth makefile))
  pub is_short : IsShort keep_going steps (shown_opened depth makefile) lines
  pub is_out : IsOut report lines

-- ---- the ends

-- The run ended as it comes to: with that outcome. The report is out, and so is the text, if one
-- goes out.
pub record IsWhole (result : RunResult) (outcome : Outcome) (report out : Written) : Type 0 where
  pub outcome_is : outcome ≡ result.outcome
  pub reported : IsOut report result.report
  pub written : IfSome result.output (λ text. IsOut out text)

-- A write or the flush failed. Either a write of the report failed, and a prefix of the report is
-- out; or a write or the flush of the text failed, and a prefix of the text is out after the whole
-- report.
abbrev pub IsCut : RunResult → (report_failed : Bool) → (report out : Written) → Type 0
IsCut result true report out = IsPrefixOut report result.report
IsCut result false report out =
    IsOut report result.report
    × ((text : List ℕ)
    × (result.output ≡ Some text)
    × IsPrefixOut out text)

-- The run over these texts, which comes to this result, ended with this outcome.
abbrev pub EndsAs : (makefile script : List ℕ) → (depth : ℕ) → (keep_going : Bool) → RunResult
    → (report_failed : Bool) → (report out : Written) → Outcome → Type 0
EndsAs m s d k result failed report out NoMemory = IsKept report ⊎ IsShortRun m s d k result report
EndsAs m s d k result failed report out Read = IsKept report
EndsAs m s d k result failed report out Write = IsCut result failed report out
EndsAs m s d k result failed report out outcome = IsWhole result outcome report out

-- The run over a makefile and a script ended with this outcome. Each of the two is what its reader
-- tells; if a reader tells nothing, it is some text.
pub record IsRunOver (makefile script : Option (List ℕ)) (depth : ℕ) (keep_going : Bool)
    (outcome : Outcome) (report_failed : Bool) (report out : Written) : Type 0 where
  pub makefile_text : List ℕ
  pub script_text : List ℕ
  pub result : RunResult
  pub of_makefile : HasText makefile makefile_text
  pub of_script : HasText script script_text
  pub is_run : IsRun makefile_text script_text depth keep_going result
  pub ends : EndsAs makefile_text script_text depth keep_going result report_failed report out
      outcome

-- ---- the session that is handed back

-- All steps were executed. What is shown last is what they lead to, with a group that was open
-- ended, and its text is what went out.
pub record IsLeft (keep_going : Bool) (steps : List Step) (first last : Shown (List ℕ))
    (out : Written) : Type 0 where
  pub shown : last ≡ ended (executed_steps keep_going steps first).shown
  pub is_out : IsOut out last.text

-- Some refusals were told. Either the run went on, and all steps were executed; or what is shown last is
-- what the steps lead to up to the first of which a refusal was told, which changed nothing.
abbrev pub IsLeftRefused : (keep_going : Bool) → List Step → (first last : Shown (List ℕ))
    → (out : Written) → Type 0
IsLeftRefused true steps first last out = IsLeft true steps first last out
IsLeftRefused false steps first last out = last ≡ (executed_steps false steps first).shown

-- A command of one of the steps found no memory. What is shown last is what the steps before it lead
-- to.
pub record IsLeftShort (keep_going : Bool) (steps : List Step)
    (first last : Shown (List ℕ)) (report : Written) : Type 0 where
  pub lines : List ℕ
  pub is_short : IsShort keep_going steps first lines
  pub is_out : IsOut report lines
  pub shown : last ≡ (executed_steps keep_going is_short.earlier first).shown

-- The line on the refusal that a step comes to could not be written. What is shown last is what the
-- steps before it lead to.
pub record IsLeftUnreported (keep_going : Bool) (steps : List Step)
    (first last : Shown (List ℕ)) : Type 0 where
  pub earlier : List Step
  pub step : Step
  pub later : List Step
  pub told : ℕ × machine.Refusal Refusal
  pub steps_are : steps ≡ earlier ++ step ∷ later
  pub reached : GoesOn keep_going (executed_steps keep_going earlier first).refused
  pub shown : last ≡ (executed_steps keep_going earlier first).shown
  pub refused : step_end step last ≡ Err told

-- A write or the flush failed: of the report, or of the text after all steps were executed.
abbrev pub IsLeftCut : (keep_going : Bool) → (report_failed : Bool) → List Step
    → (first last : Shown (List ℕ)) → Type 0
IsLeftCut k true steps first last = IsLeftUnreported k steps first last
IsLeftCut k false steps first last = last ≡ ended (executed_steps k steps first).shown

-- A session that was opened on the makefile, for the script's steps. Makefile and script are what
-- their readers tell. `Shows` is what the session shows, by the steps and by what was shown before
-- them.
pub record IsSessionOf (makefile script : Option (List ℕ)) (depth : ℕ)
    (Shows : List Step → (first : Shown (List ℕ)) → Type 0) : Type 0 where
  pub makefile_text : List ℕ
  pub script_text : List ℕ
  pub steps : List Step
  pub of_makefile : HasText makefile makefile_text
  pub of_script : HasText script script_text
  pub are_steps : IsScript script_text steps
  pub shows : Shows steps (shown_opened depth makefile_text)

-- Such a session is handed back.
abbrev pub HandsBack : (makefile script : Option (List ℕ)) → (depth : ℕ)
    → (Shows : List Step → (first last : Shown (List ℕ)) → Type 0) → Option Seen → Type 0
HandsBack m s d Shows None = ⊥
HandsBack m s d Shows (Some session) =
    IsSessionOf m s d (λ steps first. Shows steps first session.shown)

-- What a run with this outcome leaves in the place of a session. If no command was reached, it is
-- what was there before; otherwise it is the session as the commands left it.
abbrev pub Leaves : (makefile script : Option (List ℕ)) → (depth : ℕ) → (keep_going : Bool)
    → (report_failed : Bool) → (report out : Written) → (before after : Option Seen) → Outcome
    → Type 0
Leaves m s d k failed report out before after Done =
    HandsBack m s d (λ steps first last. IsLeft k steps first last out) after
Leaves m s d k failed report out before after (Refused count) =
    HandsBack m s d (λ steps first last. IsLeftRefused k steps first last out) after
Leaves m s d k failed report out before after Write =
    HandsBack m s d (λ steps first last. IsLeftCut k failed steps first last) after
Leaves m s d k failed report out before after NoMemory =
    ((after ≡ before) × IsKept report)
    ⊎ HandsBack m s d (λ steps first last. IsLeftShort k steps first last report) after
Leaves m s d k failed report out before after outcome = after ≡ before

-- ---- the devices

-- A source, which tells the bytes that it has left and how often it told its end, was read once: it
-- lost at most `limit` bytes, and was asked for its end once at most.
pub record ReadsOnce {S : Type 0} (remaining : S → Option (List ℕ)) (ends : S → Option ℕ)
    (old new : S) (limit : ℕ) : Type 0 where
  pub taken : TakesAtMost (remaining old) (remaining new) limit
  pub ends_once : (ends new ≡ ends old) ⊎ (ends new ≡ count_if true (ends old))

-- A text was written into a sink, which tells its bytes, whether it failed, its flushes and how many
-- bytes it holds back, and then flushed once: the whole text, or a prefix of it and the fault Write
-- if the sink failed, without a flush that succeeded.
pub record PutsOut {S : Type 0} (contents : S → Option (List ℕ)) (failed : S → Bool)
    (flushes pending : S → Option ℕ) (old new : S) (result : Result Unit Fault) (text : List ℕ)
    : Type 0 where
  pub whole : OnOk result (Appends (contents old) (contents new) text)
  pub prefix : AppendsPrefix (contents old) (contents new) text
  pub works : OnOk result (failed new ≡ false)
  pub fault : IfErr result (λ e. (e ≡ fault.Write) × (failed new ≡ true))
  pub flushed : flushes new ≡ count_if (is_ok result) (flushes old)
  pub settled : OnOk result (IfSome (pending new) (λ n. n ≡ 0))

-- The sink of a run's text, by whether the text is out. If it is, it was flushed once, and nothing is
-- held back. If it is not, there was no flush, and the sink is as it was unless it failed.
pub record PutsOutIf {S : Type 0} (failed : S → Bool) (flushes pending : S → Option ℕ)
    (old new : S) (is_out : Bool) : Type 0 where
  pub unwritten : is_out ≡ false → failed new ≡ false → new ≡ old
  pub flushed : flushes new ≡ count_if is_out (flushes old)
  pub settled : is_out ≡ true → IfSome (pending new) (λ n. n ≡ 0)

-- When these outcomes come, whatever the devices tell: for a bad depth, if a source failed, and if a
-- sink failed.
pub record TellsFaults (outcome : Outcome) (depth : ℕ) (source_failed sink_failed : Bool)
    : Type 0 where
  pub bad_depth : (outcome ≡ BadDepth) ↔ IsBadDepth depth
  pub read : (outcome ≡ Read) ↔ IsTrue source_failed
  pub write : (outcome ≡ Write) ↔ IsTrue sink_failed
