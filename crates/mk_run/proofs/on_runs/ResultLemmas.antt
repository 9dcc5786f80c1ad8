-- A run has a result, and no other.
use Rattle.std.proofs.Common.{◌≡◌, refl, sym, ap, ◌∙◌, arith, ℕ, ◌<◌, ◌≤◌, Bool, List, length, inl, inr}
use Rattle.std.specs.Prelude.{◌⊎◌}
use Rattle.std.proofs.lemmas.Bool.{cases_lt}
use Rattle.mk_lines.specs.Limits.{max_text}
use Rattle.mk_tree.specs.Documents.{IsTooDeep}
use Rattle.mk_history.specs.Shown.{shown_opened}
use Rattle.mk_session.specs.Sessions.{IsBadDepth}
use Rattle.mk_script.specs.Scripts.{Step, IsScript, HasNoCommand}
use Rattle.mk_script.proofs.on_scripts.OneLemmas.{steps-one, not-both, fault-one, script-read}
use Rattle.mk_run.specs.ExecutedSteps.{executed_steps}
use Rattle.mk_run.specs.Runs.{RunResult, IsTooLong, InCase, IsRunOf, IsRun, stopped, result_after}
use Rattle.mk_run.specs.declared.outcome.Outcome.TheVariants.{NotACommand, BadDepth, TooLong, TooDeep}

-- ---- each case holds or not

decided : (a b : ℕ) → (a < b) ⊎ (b ≤ a) → (a < b) ⊎ (a < b → ⊥)
decided a b (inl less) = inl less
decided a b (inr more) = inr (λ less. omega (arith, less, more))

long-or_not : (text : List ℕ) → IsTooLong text ⊎ (IsTooLong text → ⊥)
long-or_not text = decided max_text (length text) (cases_lt max_text (length text))

deep-or_not : (text : List ℕ) → IsTooDeep text ⊎ (IsTooDeep text → ⊥)
deep-or_not text = decided 256 _ (cases_lt 256 _)

bad-or : (depth : ℕ) → (depth < 1) ⊎ (depth < 1 → ⊥) → (10000 < depth) ⊎ (10000 < depth → ⊥) → IsBadDepth depth ⊎ (IsBadDepth depth → ⊥)
bad-or depth (inl none) many = inl (inl none)
bad-or depth (inr some) (inl many) = inl (inr many)
bad-or depth (inr some) (inr few) = inr (λ bad. elim bad [ inl none ↦ some none | inr many ↦ few many ])

bad-or_not : (depth : ℕ) → IsBadDepth depth ⊎ (IsBadDepth depth → ⊥)
bad-or_not depth = bad-or depth (decided depth 1 (cases_lt depth 1)) (decided 10000 depth (cases_lt 10000 depth))

-- ---- a run has a result

module _ (makefile script : List ℕ) (depth : ℕ) (k : Bool) where
  steps-run : (steps : List Step) → IsTooLong makefile ⊎ (IsTooLong makefile → ⊥) → IsTooDeep makefile ⊎ (IsTooDeep makefile → ⊥)
      → (r : RunResult) × IsRunOf steps makefile depth k r
  steps-run steps (inl long) deep = (stopped TooLong, inl (long, refl))
  steps-run steps (inr short) (inl deep) = (stopped TooDeep, inr (short, inl (deep, refl)))
  steps-run steps (inr short) (inr shallow) = (result_after k (executed_steps k steps (shown_opened depth makefile)), inr (short, inr (shallow, refl)))

  script-run : (IsBadDepth depth → ⊥) → (IsTooLong script → ⊥) → ((steps : List Step) × IsScript script steps) ⊎ ((line : ℕ) × HasNoCommand script line)
      → (r : RunResult) × IsRun makefile script depth k r
  script-run good short (inl (steps, are)) =
      let r = steps-run steps (long-or_not makefile) (deep-or_not makefile) in
      (r.0, inr (good, inr (short, inr (steps, are, r.1))))
  script-run good short (inr (line, is)) = (stopped (NotACommand line), inr (good, inr (short, inl (line, is, refl))))

  short-run : (IsBadDepth depth → ⊥) → IsTooLong script ⊎ (IsTooLong script → ⊥) → (r : RunResult) × IsRun makefile script depth k r
  short-run good (inl long) = (stopped TooLong, inr (good, inl (long, refl)))
  short-run good (inr short) = script-run good short (script-read script)

  any-run : IsBadDepth depth ⊎ (IsBadDepth depth → ⊥) → (r : RunResult) × IsRun makefile script depth k r
  any-run (inl bad) = (stopped BadDepth, inl (bad, refl))
  any-run (inr good) = short-run good (long-or_not script)

  -- a run of any makefile and any script has a result
  pub has-run : (r : RunResult) × IsRun makefile script depth k r
  has-run = any-run (bad-or_not depth)

-- ---- and no other

in-case : {C A B : Type 0} → InCase C A B → C → A
in-case (inl (c, a)) here = a
in-case (inr (none, b)) here = absurd (none here)

not-case : {C A B : Type 0} → InCase C A B → (C → ⊥) → B
not-case (inl (c, a)) none = absurd (none c)
not-case (inr (other, b)) none = b

module _ (makefile : List ℕ) (depth : ℕ) (k : Bool) (steps : List Step) (r q : RunResult) where
  deep-same : InCase (IsTooDeep makefile) (r ≡ stopped TooDeep) (r ≡ result_after k (executed_steps k steps (shown_opened depth makefile)))
      → InCase (IsTooDeep makefile) (q ≡ stopped TooDeep) (q ≡ result_after k (executed_steps k steps (shown_opened depth makefile))) → r ≡ q
  deep-same (inl (deep, is)) other = is ∙ sym (in-case other deep)
  deep-same (inr (shallow, is)) other = is ∙ sym (not-case other shallow)

  steps-same : IsRunOf steps makefile depth k r → IsRunOf steps makefile depth k q → r ≡ q
  steps-same (inl (long, is)) other = is ∙ sym (in-case other long)
  steps-same (inr (short, rest)) other = deep-same rest (not-case other short)

module _ (makefile script : List ℕ) (depth : ℕ) (k : Bool) (r q : RunResult) where
  Rest : RunResult → Type 0
  Rest x = ((line : ℕ) × HasNoCommand script line × (x ≡ stopped (NotACommand line))) ⊎ ((steps : List Step) × IsScript script steps × IsRunOf steps makefile depth k x)

  rest-same : Rest r → Rest q → r ≡ q
  unfolding Rest
  rest-same (inl (line, is, end)) (inl (other, is_other, end_other)) = end ∙ (ap (λ n. stopped (NotACommand n)) (fault-one script line other is is_other) ∙ sym end_other)
  rest-same (inl (line, is, end)) (inr (steps, are, run)) = absurd (not-both script steps line are is)
  rest-same (inr (steps, are, run)) (inl (line, is, end)) = absurd (not-both script steps line are is)
  rest-same (inr (steps, are, run)) (inr (others, are_other, run_other)) =
      steps-same makefile depth k steps r q run (rw (steps-one script steps others are are_other) run_other)

  script-same : InCase (IsTooLong script) (r ≡ stopped TooLong) (Rest r) → InCase (IsTooLong script) (q ≡ stopped TooLong) (Rest q) → r ≡ q
  script-same (inl (long, is)) other = is ∙ sym (in-case other long)
  script-same (inr (short, rest)) other = rest-same rest (not-case other short)

  pub one-run : IsRun makefile script depth k r → IsRun makefile script depth k q → r ≡ q
  unfolding Rest
  one-run (inl (bad, is)) other = is ∙ sym (in-case other bad)
  one-run (inr (good, rest)) other = script-same rest (not-case other good)
