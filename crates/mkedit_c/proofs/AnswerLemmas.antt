-- What the answer of a run says, by its outcome.
use Rattle.std.proofs.Common.{◌≡◌, refl, sym, ap, subst, ◌∙◌, arith, ℕ, suc, zero, ◌<◌, Bool, false, List, [], length, Some, inl, inr}
use Rattle.std.specs.Prelude.{IfSome}
use Rattle.mk_history.specs.Shown.{shown_opened}
use Rattle.mk_run.specs.ExecutedSteps.{executed_steps}
use Rattle.mk_run.specs.Runs.{RunResult, IsRun, ended, outcome_after, output_after}
use Rattle.mk_run.specs.RunEnds.{EndsAs, IsOut, IsRunOver, IsWhole, Written, written}
use Rattle.mk_run.specs.declared.outcome.Outcome as o
use Rattle.mk_run.specs.declared.outcome.Outcome.TheVariants.{Done, Refused, NotACommand, BadDepth, TooLong, TooDeep, Read, Write, NoMemory}
use Rattle.mkedit_c.specs.Answers.{Answers, IsPut, line_of, number_of}
use Rattle.mkedit_c.specs.declared.Told.{Told}

-- a run that neither memory nor a device ended is whole
whole-end : (m s : List ℕ) (d : ℕ) (run : RunResult) (failed : Bool) (report out : Written) (outcome : o.Outcome) → number_of outcome < 6
    → EndsAs m s d false run failed report out outcome → IsWhole run outcome report out
whole-end m s d run failed report out Done low ends = ends
whole-end m s d run failed report out (Refused n) low ends = ends
whole-end m s d run failed report out (NotACommand n) low ends = ends
whole-end m s d run failed report out BadDepth low ends = ends
whole-end m s d run failed report out TooLong low ends = ends
whole-end m s d run failed report out TooDeep low ends = ends
whole-end m s d run failed report out Read low ends = absurd (let no : 6 < 6 = low in omega arith)
whole-end m s d run failed report out Write low ends = absurd (let no : 6 < 6 = low in omega arith)
whole-end m s d run failed report out NoMemory low ends = absurd (let no : 6 < 6 = low in omega arith)

-- a run over two texts is that of the definitions, if it is whole
pub whole-run : (m s : List ℕ) (d : ℕ) (outcome : o.Outcome) (failed : Bool) (report out : Written) → IsRunOver (Some m) (Some s) d false outcome failed report out
    → number_of outcome < 6 → (run : RunResult) × IsRun m s d false run × IsWhole run outcome report out
whole-run m s d outcome failed report out over low = (
  over.result,
  subst (λ t. IsRun t s d false over.result) over.of_makefile (subst (λ t. IsRun over.makefile_text t d false over.result) over.of_script over.is_run),
  whole-end over.makefile_text over.script_text d over.result failed report out outcome low over.ends,
)

-- the text that goes out after no refusal
text-after : (n : ℕ) (text : List ℕ) → outcome_after n ≡ Done → (out : List ℕ) × (output_after false n text ≡ Some out)
text-after zero text done = (text, refl)
text-after (suc n) text done = absurd (cc)

-- the text of a run that is done
text-out : (m s : List ℕ) (d : ℕ) (run : RunResult) → IsRun m s d false run → run.outcome ≡ Done → (text : List ℕ) × (run.output ≡ Some text)
text-out m s d run (inl (bad, e)) done = absurd (cc)
text-out m s d run (inr (good, inl (long, e))) done = absurd (cc)
text-out m s d run (inr (good, inr (short, inl (line, none, e)))) done = absurd (cc)
text-out m s d run (inr (good, inr (short, inr (steps, are, inl (long, e))))) done = absurd (cc)
text-out m s d run (inr (good, inr (short, inr (steps, are, inr (fits, inl (deep, e)))))) done = absurd (cc)
text-out m s d run (inr (good, inr (short, inr (steps, are, inr (fits, inr (shallow, e)))))) done =
    let did = executed_steps false steps (shown_opened d m) in
    let t = text-after did.refused (ended did.shown).text (subst (λ (r : RunResult). r.outcome ≡ Done) e done) in
    (t.0, ap (λ (r : RunResult). r.output) e ∙ t.1)

module _ (m s : List ℕ) (d : ℕ) (rep txt : List ℕ) (told : Told) (out new_out report new_report : List ℕ) where
  -- what a run over texts in memory came to, with this outcome
  abbrev Ran : o.Outcome → Type 0
  Ran outcome = number_of outcome < 6 → (run : RunResult) × IsRun m s d false run × IsWhole run outcome (written (Some []) (Some rep)) (written (Some []) (Some txt))

  -- every command is done
  pub done-answers : Ran Done → told.line ≡ 0 → told.text ≡ length txt → IsPut out new_out txt → Answers m s d 0 told out new_out report new_report
  done-answers ran line size put =
      let (run, is_run, whole) = ran (omega arith) in
      let t = text-out m s d run is_run (sym whole.outcome_is) in
      let same : txt ≡ t.0 = subst (λ found. IfSome found (λ text. IsOut (written (Some []) (Some txt)) text)) t.1 whole.written in
      record {
        run = run;
        is_run = is_run;
        number = ap number_of whole.outcome_is;
        line = line ∙ ap line_of whole.outcome_is;
        text_out = λ _. (t.0, t.1, subst (λ text. IsPut out new_out text) same put, size ∙ ap length same);
        report_out = λ no. absurd (let e : 0 ≡ 1 = no in omega arith);
      }

  -- a command is refused
  pub refused-answers : (n : ℕ) → Ran (Refused n) → told.line ≡ 0 → told.report ≡ length rep → IsPut report new_report rep → Answers m s d 1 told out new_out report new_report
  refused-answers n ran line size put =
      let (run, is_run, whole) = ran (omega arith) in
      let same : rep ≡ run.report = whole.reported in
      record {
        run = run;
        is_run = is_run;
        number = ap number_of whole.outcome_is;
        line = line ∙ ap line_of whole.outcome_is;
        text_out = λ no. absurd (let e : 1 ≡ 0 = no in omega arith);
        report_out = λ _. (subst (λ text. IsPut report new_report text) same put, size ∙ ap length same);
      }

  -- the run ended before any command
  stopped-answers : (outcome : o.Outcome) → 1 < number_of outcome → number_of outcome < 6 → Ran outcome → told.line ≡ line_of outcome
      → Answers m s d (number_of outcome) told out new_out report new_report
  stopped-answers outcome high low ran line =
      let (run, is_run, whole) = ran low in
      record {
        run = run;
        is_run = is_run;
        number = ap number_of whole.outcome_is;
        line = line ∙ ap line_of whole.outcome_is;
        text_out = λ no. absurd (let e : number_of outcome ≡ 0 = no in omega (arith, high));
        report_out = λ no. absurd (let e : number_of outcome ≡ 1 = no in omega (arith, high));
      }

  pub no-command-answers : (line : ℕ) → Ran (NotACommand line) → told.line ≡ line → Answers m s d 2 told out new_out report new_report
  no-command-answers line ran same = stopped-answers (NotACommand line) (omega arith) (omega arith) ran same

  pub bad-depth-answers : Ran BadDepth → told.line ≡ 0 → Answers m s d 3 told out new_out report new_report
  bad-depth-answers ran same = stopped-answers BadDepth (omega arith) (omega arith) ran same

  pub too-long-answers : Ran TooLong → told.line ≡ 0 → Answers m s d 4 told out new_out report new_report
  too-long-answers ran same = stopped-answers TooLong (omega arith) (omega arith) ran same

  pub too-deep-answers : Ran TooDeep → told.line ≡ 0 → Answers m s d 5 told out new_out report new_report
  too-deep-answers ran same = stopped-answers TooDeep (omega arith) (omega arith) ran same

pub ruleset answer_rules = (done-answers, refused-answers, no-command-answers, bad-depth-answers, too-long-answers, too-deep-answers)
