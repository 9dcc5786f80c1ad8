-- How a run ends, by the step at which it ends.
use Rattle.std.proofs.Common.{◌≡◌, refl, sym, ap, subst, ◌∙◌, arith, ℕ, suc, zero, Bool, true, false, List, [], Option, Some, None, inl, inr, rules}
use Rattle.std.specs.Prelude.{◌↔◌, ◌||◌, IfSome, IsTrue}
use Rattle.std.specs.Io.KnownBytes.{Appends}
use Rattle.std.proofs.KnownBytes.{Appends-nil, Keeps-refl}
use Rattle.mk_history.specs.Shown.{Shown, shown_opened}
use Rattle.mk_session.specs.Sessions.{Seen, IsBadDepth}
use Rattle.mk_script.specs.Scripts.{Step}
use Rattle.mk_run.specs.ExecutedSteps.{executed_steps}
use Rattle.mk_run.specs.Runs.{RunResult, stopped, ended, outcome_after, output_after, result_after}
use Rattle.mk_run.specs.RunEnds.{HasText, GoesOn, Written, written, IsOut, IsPrefixOut, IsWhole, IsCut, EndsAs, IsLeft, IsLeftRefused, IsLeftShort, IsLeftCut, HandsBack, Leaves, IsRunOver}
use Rattle.mk_run.specs.Outcome.{is_printed, may_report}
use Rattle.mk_run.specs.RunSteps.{GivesSteps, GivesSession, AreExecuted, AreEnded, StopsScript, StopsMakefile, StopsSteps, EndsSteps}
use Rattle.mk_run.specs.declared.outcome.Outcome as o
use Rattle.mk_run.specs.declared.outcome.Outcome.TheVariants.{Done, Refused, NotACommand, BadDepth, TooLong, TooDeep, Read, Write, NoMemory}
use Rattle.mk_run.proofs.on_runs.ResultLemmas.{has-run}

-- ---- texts of readers

-- what a reader tells, or nothing
told : Option (List ℕ) → List ℕ
told None = []
told (Some bytes) = bytes

has-told : (bytes : Option (List ℕ)) → HasText bytes (told bytes)
unfolding told
has-told None = tt
has-told (Some bytes) = refl

-- ---- before the steps

module _ (makefile script : Option (List ℕ)) (depth : ℕ) (k : Bool) (failed : Bool) (report out : Option (List ℕ)) where
  -- a run of any texts, for an outcome of which nothing is known
  some-run : (outcome : o.Outcome) → ((m s : List ℕ) (r : RunResult) → EndsAs m s depth k r failed (written report report) (written out out) outcome)
      → IsRunOver makefile script depth k outcome failed (written report report) (written out out)
  some-run outcome ends =
      let r = has-run (told makefile) (told script) depth k in
      record {
        makefile_text = told makefile;
        script_text = told script;
        result = r.0;
        of_makefile = has-told makefile;
        of_script = has-told script;
        is_run = r.1;
        ends = ends (told makefile) (told script) r.0;
      }

  -- nothing was reported, and nothing is out
  nothing-out : (outcome : o.Outcome) → IsWhole (stopped outcome) outcome (written report report) (written out out)
  nothing-out outcome = record { outcome_is = refl; reported = Appends-nil report; written = tt }

  pub depth-stops : IsBadDepth depth → IsRunOver makefile script depth k BadDepth failed (written report report) (written out out)
  depth-stops bad = record {
    makefile_text = told makefile;
    script_text = told script;
    result = stopped BadDepth;
    of_makefile = has-told makefile;
    of_script = has-told script;
    is_run = inl (bad, refl);
    ends = nothing-out BadDepth;
  }

  -- the run is over, nothing is out, and what was there before is left
  module _ (before : Option Seen) where
    abbrev EndsEarly : o.Outcome → Type 0
    EndsEarly outcome =
        IsRunOver makefile script depth k outcome failed (written report report) (written out out)
        × Leaves makefile script depth k failed (written report report) (written out out) before before outcome

    pub script-stops : (reader_failed : Bool) (outcome : o.Outcome) → (IsBadDepth depth → ⊥) → StopsScript script reader_failed outcome → EndsEarly outcome
    script-stops reader_failed TooLong good (works, gives) = (
      record {
        makefile_text = told makefile;
        script_text = gives.text;
        result = stopped TooLong;
        of_makefile = has-told makefile;
        of_script = gives.has_text;
        is_run = inr (good, inl (gives.holds, refl));
        ends = nothing-out TooLong;
      },
      refl,
    )
    script-stops reader_failed (NotACommand line) good (works, gives) = (
      record {
        makefile_text = told makefile;
        script_text = gives.text;
        result = stopped (NotACommand line);
        of_makefile = has-told makefile;
        of_script = gives.has_text;
        is_run = inr (good, inr (gives.holds.0, inl (line, gives.holds.1, refl)));
        ends = nothing-out (NotACommand line);
      },
      refl,
    )
    script-stops reader_failed NoMemory good stops = (some-run NoMemory (λ m s r. inl (Keeps-refl report)), inl (refl, Keeps-refl report))
    script-stops reader_failed Read good stops = (some-run Read (λ m s r. Keeps-refl report), refl)
    script-stops reader_failed Done good stops = absurd stops
    script-stops reader_failed (Refused n) good stops = absurd stops
    script-stops reader_failed BadDepth good stops = absurd stops
    script-stops reader_failed TooDeep good stops = absurd stops
    script-stops reader_failed Write good stops = absurd stops

    pub makefile-stops : (steps : List Step) (reader_failed : Bool) (outcome : o.Outcome) → (IsBadDepth depth → ⊥) → GivesSteps script steps → StopsMakefile makefile reader_failed outcome
        → EndsEarly outcome
    makefile-stops steps reader_failed TooLong good says (works, gives) = (
      record {
        makefile_text = gives.text;
        script_text = says.text;
        result = stopped TooLong;
        of_makefile = gives.has_text;
        of_script = says.has_text;
        is_run = inr (good, inr (says.short, inr (steps, says.is_script, inl (gives.holds, refl))));
        ends = nothing-out TooLong;
      },
      refl,
    )
    makefile-stops steps reader_failed TooDeep good says (works, gives) = (
      record {
        makefile_text = gives.text;
        script_text = says.text;
        result = stopped TooDeep;
        of_makefile = gives.has_text;
        of_script = says.has_text;
        is_run = inr (good, inr (says.short, inr (steps, says.is_script, inr (gives.holds.0, inl (gives.holds.1, refl)))));
        ends = nothing-out TooDeep;
      },
      refl,
    )
    makefile-stops steps reader_failed NoMemory good says stops = (some-run NoMemory (λ m s r. inl (Keeps-refl report)), inl (refl, Keeps-refl report))
    makefile-stops steps reader_failed Read good says stops = (some-run Read (λ m s r. Keeps-refl report), refl)
    makefile-stops steps reader_failed Done good says stops = absurd stops
    makefile-stops steps reader_failed (Refused n) good says stops = absurd stops
    makefile-stops steps reader_failed (NotACommand line) good says stops = absurd stops
    makefile-stops steps reader_failed BadDepth good says stops = absurd stops
    makefile-stops steps reader_failed Write good says stops = absurd stops

-- where a makefile was not opened, only Read says that its reader failed, and no text is out
pub makefile-unopened : (bytes : Option (List ℕ)) (failed : Bool) (outcome : o.Outcome) (k : Bool) → StopsMakefile bytes failed outcome
    → (outcome ≡ Read ↔ failed ≡ true) × (is_printed outcome k ≡ false)
makefile-unopened bytes failed TooLong k stops = ((λ is. absurd (cc), λ fails. absurd (let works = stops.0 in cc)), refl)
makefile-unopened bytes failed TooDeep k stops = ((λ is. absurd (cc), λ fails. absurd (let works = stops.0 in cc)), refl)
makefile-unopened bytes failed NoMemory k stops = ((λ is. absurd (cc), λ fails. absurd (cc)), refl)
makefile-unopened bytes failed Read k stops = ((λ is. stops, λ fails. refl), refl)
makefile-unopened bytes failed Done k stops = absurd stops
makefile-unopened bytes failed (Refused n) k stops = absurd stops
makefile-unopened bytes failed (NotACommand line) k stops = absurd stops
makefile-unopened bytes failed BadDepth k stops = absurd stops
makefile-unopened bytes failed Write k stops = absurd stops

-- ---- the steps

-- a text goes out where the run goes on
pub output-some : (k : Bool) (n : ℕ) (text : List ℕ) → GoesOn k n → output_after k n text ≡ Some text
output-some true n text on = refl
output-some false zero text on = refl
output-some false (suc n) text on = absurd (omega (arith, on refl))

if_some-is : (output : Option (List ℕ)) (text : List ℕ) (P : List ℕ → Type 0) → output ≡ Some text → P text → IfSome output P
if_some-is output text P is p = rw is p

no-output : (n : ℕ) (text : List ℕ) (P : List ℕ → Type 0) → n ≡ 1 → IfSome (output_after false n text) P
no-output n text P one = rw one tt

refused-is : (n : ℕ) → (n ≡ 0 → ⊥) → Refused n ≡ outcome_after n
refused-is zero some = absurd (some refl)
refused-is (suc n) some = refl

-- the run went on after a refusal
pub printed-refused : (k : Bool) (n : ℕ) → GoesOn k n → (n ≡ 0 → ⊥) → k ≡ true
printed-refused true n on some = refl
printed-refused false n on some = absurd (some (on refl))

module _ (k : Bool) (steps : List Step) (first : Shown (List ℕ)) where
  ended-by_refusal : (last : Shown (List ℕ)) (n : ℕ) (report : Written) (out : Option (List ℕ)) → AreEnded k steps first last n report
      → IsWhole (result_after k (executed_steps k steps first)) (Refused n) report (written out out)
  ended-by_refusal last n report out are =
      let did = executed_steps k steps first in
      record {
        outcome_is = rw are.one (ap outcome_after (sym are.one ∙ are.number));
        reported = are.reported;
        written = subst (λ (q : Bool). IfSome (output_after q did.refused (ended did.shown).text) (λ text. Appends out out text)) (sym are.ends)
            (no-output did.refused (ended did.shown).text (λ text. Appends out out text) (sym are.number ∙ are.one));
      }

  left-by_refusal : (last : Shown (List ℕ)) (n : ℕ) (report out : Written) → AreEnded k steps first last n report → IsLeftRefused k steps first last out
  left-by_refusal last n report out are =
      subst (λ (q : Bool). IsLeftRefused q steps first last out) (sym are.ends)
      (subst (λ (q : Bool). last ≡ (executed_steps q steps first).shown) are.ends are.shown)

  -- the steps did not come to their end, and nothing is out
  pub stopped-ends : (last : Shown (List ℕ)) (failed : Bool) (outcome : o.Outcome) (report : Written) (out : Option (List ℕ)) → StopsSteps k steps first last failed report outcome
      → EndsSteps k steps first last failed report (written out out) outcome
  stopped-ends last failed (Refused n) report out (works, are) = (ended-by_refusal last n report out are, left-by_refusal last n report (written out out) are)
  stopped-ends last failed NoMemory report out (works, short) = short
  stopped-ends last failed Write report out (fails, cut, left) = (
    subst (λ (f : Bool). IsCut (result_after k (executed_steps k steps first)) f report (written out out)) (sym fails) cut,
    subst (λ (f : Bool). IsLeftCut k f steps first last) (sym fails) left,
  )
  stopped-ends last failed Done report out stops = absurd stops
  stopped-ends last failed (NotACommand line) report out stops = absurd stops
  stopped-ends last failed BadDepth report out stops = absurd stops
  stopped-ends last failed TooLong report out stops = absurd stops
  stopped-ends last failed TooDeep report out stops = absurd stops
  stopped-ends last failed Read report out stops = absurd stops

  module _ (last : Shown (List ℕ)) (n : ℕ) (report : Written) (are : AreExecuted k steps first last n report) where
    -- the text goes out
    text-goes : output_after k (executed_steps k steps first).refused (ended (executed_steps k steps first).shown).text ≡ Some (ended last).text
    text-goes =
        let did = executed_steps k steps first in
        output-some k did.refused (ended did.shown).text (λ off. sym are.number ∙ are.goes_on off) ∙ ap (λ (x : Shown (List ℕ)). Some (ended x).text) (sym are.shown)

    wholly : (outcome : o.Outcome) (out : Written) → outcome ≡ outcome_after n → IsOut out (ended last).text
        → IsWhole (result_after k (executed_steps k steps first)) outcome report out
    wholly outcome out is whole = record {
      outcome_is = is ∙ ap outcome_after are.number;
      reported = are.reported;
      written = if_some-is (output_after k (executed_steps k steps first).refused (ended (executed_steps k steps first).shown).text) (ended last).text (λ text. IsOut out text) text-goes whole;
    }

    -- what is shown at the end
    module _ (new : Shown (List ℕ)) (is : new ≡ ended last) where
      all-left : (out : Written) → IsOut out (ended last).text → IsLeft k steps first new out
      all-left out whole = record {
        shown = is ∙ ap ended are.shown;
        is_out = subst (λ (s : Shown (List ℕ)). IsOut out s.text) (sym is) whole;
      }

      -- no command was refused, and the text is out
      pub done-ends : (failed : Bool) (out : Written) → n ≡ 0 → IsOut out (ended last).text → EndsSteps k steps first new failed report out Done
      done-ends failed out none whole = (wholly Done out (ap outcome_after (sym none)) whole, all-left out whole)

      -- some steps were refused, and the text is out
      pub refused-ends : (failed : Bool) (out : Written) → (n ≡ 0 → ⊥) → IsOut out (ended last).text → EndsSteps k steps first new failed report out (Refused n)
      refused-ends failed out some whole =
          let on = printed-refused k n are.goes_on some in (
            wholly (Refused n) out (refused-is n some) whole,
            subst (λ (q : Bool). IsLeftRefused q steps first new out) (sym on) (subst (λ (q : Bool). IsLeft q steps first new out) on (all-left out whole)),
          )

      -- the text could not be written or flushed
      pub cut-ends : (failed : Bool) (out : Written) → failed ≡ false → IsPrefixOut out (ended last).text → EndsSteps k steps first new failed report out Write
      cut-ends failed out works cut = (
        subst (λ (f : Bool). IsCut (result_after k (executed_steps k steps first)) f report out) (sym works)
            (are.reported, ((ended last).text, text-goes, cut)),
        subst (λ (f : Bool). IsLeftCut k f steps first new) (sym works) (is ∙ ap ended are.shown),
      )

-- the steps were reached, and no text is out
pub stopped-reached : (k : Bool) (steps : List Step) (first last : Shown (List ℕ)) (failed : Bool) (report : Written) (outcome : o.Outcome) → StopsSteps k steps first last failed report outcome
    → (may_report outcome ≡ true) × (is_printed outcome k ≡ false)
stopped-reached k steps first last failed report (Refused n) (works, are) = (refl, are.ends)
stopped-reached k steps first last failed report NoMemory stops = (refl, refl)
stopped-reached k steps first last failed report Write stops = (refl, refl)
stopped-reached k steps first last failed report Done stops = absurd stops
stopped-reached k steps first last failed report (NotACommand line) stops = absurd stops
stopped-reached k steps first last failed report BadDepth stops = absurd stops
stopped-reached k steps first last failed report TooLong stops = absurd stops
stopped-reached k steps first last failed report TooDeep stops = absurd stops
stopped-reached k steps first last failed report Read stops = absurd stops

-- the steps stopped for a write where the sink of the report failed, and only there
pub stopped-writes : (k : Bool) (steps : List Step) (first last : Shown (List ℕ)) (failed : Bool) (report : Written) (outcome : o.Outcome) (out : Bool) → out ≡ false → StopsSteps k steps first last failed report outcome
    → (outcome ≡ Write → IsTrue (out || failed)) × (IsTrue (out || failed) → outcome ≡ Write)
stopped-writes k steps first last failed report (Refused n) out off (works, are) = rw (off, works) ((λ e. absurd (cc)), (λ t. absurd (let h = t in cc)))
stopped-writes k steps first last failed report NoMemory out off (works, left) = rw (off, works) ((λ e. absurd (cc)), (λ t. absurd (let h = t in cc)))
stopped-writes k steps first last failed report Write out off (fails, cut, left) = rw (off, fails) ((λ e. search rules), (λ t. refl))
stopped-writes k steps first last failed report Done out off stops = absurd stops
stopped-writes k steps first last failed report (NotACommand line) out off stops = absurd stops
stopped-writes k steps first last failed report BadDepth out off stops = absurd stops
stopped-writes k steps first last failed report TooLong out off stops = absurd stops
stopped-writes k steps first last failed report TooDeep out off stops = absurd stops
stopped-writes k steps first last failed report Read out off stops = absurd stops

-- where the steps were reached, no outcome comes at which none can have been
pub reached-other : (outcome other : o.Outcome) → may_report outcome ≡ true → may_report other ≡ false → outcome ≡ other → ⊥
reached-other outcome other reached off h = let on : may_report outcome ≡ may_report other = ap may_report h in absurd (cc)

-- a run of steps over a makefile
module _ (makefile script : Option (List ℕ)) (depth : ℕ) (k : Bool) (steps : List Step) (seen : Seen) (good : IsBadDepth depth → ⊥) (says : GivesSteps script steps) (opens : GivesSession makefile depth seen) where
  of-steps : (outcome : o.Outcome) (failed : Bool) (report out : Written)
      → EndsAs opens.text says.text depth k (result_after k (executed_steps k steps (shown_opened depth opens.text))) failed report out outcome
      → IsRunOver makefile script depth k outcome failed report out
  of-steps outcome failed report out ends = record {
    makefile_text = opens.text;
    script_text = says.text;
    result = result_after k (executed_steps k steps (shown_opened depth opens.text));
    of_makefile = opens.has_text;
    of_script = says.has_text;
    is_run = inr (good, inr (says.short, inr (steps, says.is_script, inr (opens.short, inr (opens.shallow, refl)))));
    ends = ends;
  }

  first-is : seen.shown ≡ shown_opened depth opens.text
  first-is = ap (λ (s : Seen). s.shown) opens.opened

  module _ (failed : Bool) (report out : Written) (session : Seen) where
    session-of : (Shows : List Step → (first last : Shown (List ℕ)) → Type 0) → Shows steps (shown_opened depth opens.text) session.shown
        → HandsBack makefile script depth Shows (Some session)
    session-of Shows shows = record {
      makefile_text = opens.text;
      script_text = says.text;
      steps = steps;
      of_makefile = opens.has_text;
      of_script = says.has_text;
      are_steps = says.is_script;
      shows = shows;
    }

    -- the run of the steps is over, and the session that they leave is handed back
    pub steps-over : (before : Option Seen) (outcome : o.Outcome) → EndsSteps k steps seen.shown session.shown failed report out outcome
        → IsRunOver makefile script depth k outcome failed report out × Leaves makefile script depth k failed report out before (Some session) outcome
    steps-over before outcome ends = go outcome (subst (λ (s : Shown (List ℕ)). EndsSteps k steps s session.shown failed report out outcome) first-is ends)
      where
        go : (outcome : o.Outcome) → EndsSteps k steps (shown_opened depth opens.text) session.shown failed report out outcome
            → IsRunOver makefile script depth k outcome failed report out × Leaves makefile script depth k failed report out before (Some session) outcome
        go Done ends = (of-steps Done failed report out ends.0, session-of (λ steps first last. IsLeft k steps first last out) ends.1)
        go (Refused n) ends = (of-steps (Refused n) failed report out ends.0, session-of (λ steps first last. IsLeftRefused k steps first last out) ends.1)
        go NoMemory short = (
          of-steps NoMemory failed report out (inr (record { steps = steps; lines = short.lines; are_steps = says.is_script; result_is = refl; is_short = short.is_short; is_out = short.is_out })),
          inr (session-of (λ steps first last. IsLeftShort k steps first last report) short),
        )
        go Write ends = (of-steps Write failed report out ends.0, session-of (λ steps first last. IsLeftCut k failed steps first last) ends.1)
        go (NotACommand line) ends = absurd ends
        go BadDepth ends = absurd ends
        go TooLong ends = absurd ends
        go TooDeep ends = absurd ends
        go Read ends = absurd ends
