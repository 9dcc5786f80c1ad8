-- The commands of a run are calls of a session, so the laws of sessions hold of them.
use Rattle.std.proofs.Common.{◌≡◌, refl, sym, ap, subst, ◌∙◌, arith, ℕ, suc, zero, ◌+◌, Bool, true, false, cond, List, [], ◌∷◌, length, map, replicate, Option, Some, None, Ok, Err, inl, inr, ◌++◌}
use Rattle.std.specs.Prelude.{Result, IfSome, ◌||◌}
use Rattle.std.proofs.lemmas.List.{append-nil}
use Rattle.mk_edit_language.specs.Edits.{Edit}
use Rattle.mk_edit_language.specs.declared.refusal.Refusal.{Refusal}
use Rattle.mk_history.specs.Machine as machine
use Rattle.mk_history.specs.Machine.{Command, Apply, Undo, Redo, Begin, End, Cancel, replay}
use Rattle.mk_history.specs.Shown.{Shown, shown_opened, shown_ended}
use Rattle.mk_history.specs.CallSteps.{Granted, Refused, NoMemory}
use Rattle.mk_session.specs.Sessions.{Seen, IsBadDepth, seen_opened, answer, edited, session_refusal}
use Rattle.mk_session.specs.Calls.{Reply, Call, IsCall, AreCalls, standing}
use Rattle.mk_session.proofs.on_sessions.CallLemmas.{standing-replayed, all-undone, granted-made, others-kept}
use Rattle.mk_script.specs.Scripts.{CommandAt, EditAt, Step, Alone, Tried, Chain, IsScript}
use Rattle.mk_script.specs.ScriptsOfCommands.{IsScriptOfCommands}
use Rattle.mk_script.proofs.on_scripts.OneLemmas.{steps-one, not-both}
use Rattle.mk_script.proofs.on_scripts.CommandLemmas.{commands-steps, of-commands}
use Rattle.mk_run.specs.ExecutedCommands.{Executed, after_refusal, executed_next, executed}
use Rattle.mk_run.specs.ExecutedSteps.{Answer, StepEnd, is_missing, is_met, unless, alone_end, tried_end, last_end, is_passed, chain_end, step_end, steps_next, executed_steps}
use Rattle.mk_run.specs.Runs.{RunResult, InCase, IsTooLong, IsRunOf, IsRunOfCommands, IsRun, ended, shown_or, outcome_after, output_after, result_after, stopped}
use Rattle.mk_run.specs.RunEnds.{GoesOn}
use Rattle.mk_run.specs.declared.outcome.Outcome as o
use Rattle.mk_run.specs.declared.outcome.Outcome.TheVariants.{BadDepth, TooLong, TooDeep}
use Rattle.mk_run.specs.RunLaws.{reply_of, called, chain_calls, step_calls, tried_next, tried, DoesAsStated, DoAsStated, machine_after, AreUndos, KeepEveryByte, RunsKeepEveryByte, RunsOfCommandsStay, RunsOfFirstCommandsStay}
use Rattle.mk_run.proofs.on_runs.CommandLemmas.{joined, executed-append}
use Rattle.mk_run.proofs.on_runs.RunLemmas.{output-some}

-- what is shown, of a session that has read no line
seen : Shown (List ℕ) → Seen
seen s = record { shown = s; rereads = 0 }

-- ---- a run's commands are calls

call-granted : (c : Command Edit) (x y : Shown (List ℕ)) → answer c x ≡ Ok y → IsCall (c, Granted) (seen x) (seen y)
unfolding seen
call-granted c x y h = record { step = h; memory = λ no. absurd (cc); unrefused = λ no. absurd (cc); few_read = omega arith }

call-refused : (c : Command Edit) (x : Shown (List ℕ)) (q : machine.Refusal Refusal) → answer c x ≡ Err q → IsCall (c, Refused q) (seen x) (seen x)
unfolding seen
call-refused c x q h = record { step = (h, refl); memory = λ no. absurd (cc); unrefused = λ no. absurd (cc); few_read = omega arith }

answered-call : (c : Command Edit) (x : Shown (List ℕ)) (a : Answer) → answer c x ≡ a → IsCall (c, reply_of a) (seen x) (seen (shown_or x a))
answered-call c x (Ok new) h = call-granted c x new h
answered-call c x (Err q) h = call-refused c x q h

called-is : (c : Command Edit) (x : Shown (List ℕ)) → IsCall (called c x) (seen x) (seen (shown_or x (answer c x)))
called-is c x = answered-call c x (answer c x) refl

-- what a step leaves
left : Shown (List ℕ) → StepEnd → Shown (List ℕ)
left s (Ok new) = new
left s (Err told) = s

left-alone : (n : ℕ) (s : Shown (List ℕ)) (a : Answer) → left s (alone_end n a) ≡ shown_or s a
unfolding left
left-alone n s (Ok new) = refl
left-alone n s (Err q) = refl

left-unless : (b : Bool) (n : ℕ) (s : Shown (List ℕ)) (q : machine.Refusal Refusal) → left s (unless b n s q) ≡ s
unfolding left
left-unless true n s q = refl
left-unless false n s q = refl

left-tried : (n : ℕ) (s : Shown (List ℕ)) (a : Answer) → left s (tried_end n s a) ≡ shown_or s a
unfolding left
left-tried n s (Ok new) = refl
left-tried n s (Err q) = left-unless (is_missing (session_refusal q) || is_met (session_refusal q)) n s q

left-last : (n : ℕ) (s : Shown (List ℕ)) (a : Answer) → left s (last_end n s a) ≡ shown_or s a
unfolding left
left-last n s (Ok new) = refl
left-last n s (Err q) = left-unless (is_met (session_refusal q)) n s q

one-call : (c : Command Edit) (s : Shown (List ℕ)) (e : StepEnd) → left s e ≡ shown_or s (answer c s) → AreCalls (called c s ∷ []) (seen s) (seen (left s e))
one-call c s e h = (seen (shown_or s (answer c s)), (called-is c s, ap (λ t. seen t) h))

passed-same : (s : Shown (List ℕ)) (a : Answer) → is_passed a ≡ true → shown_or s a ≡ s
passed-same s (Ok new) h = absurd (cc)
passed-same s (Err q) h = refl

chain-are : (e : EditAt) (others : List EditAt) (s : Shown (List ℕ)) → AreCalls (chain_calls e others s) (seen s) (seen (left s (chain_end e others s)))
chain-are e [] s = one-call (Apply e.edit) s (last_end e.line s (answer (Apply e.edit) s)) (left-last e.line s (answer (Apply e.edit) s))
chain-are e (o ∷ others) s = go (is_passed (answer (Apply e.edit) s)) refl (chain-are o others s)
  where
    go : (b : Bool) → is_passed (answer (Apply e.edit) s) ≡ b → AreCalls (chain_calls o others s) (seen s) (seen (left s (chain_end o others s)))
        → AreCalls (called (Apply e.edit) s ∷ cond b (chain_calls o others s) []) (seen s) (seen (left s (cond b (chain_end o others s) (last_end e.line s (answer (Apply e.edit) s)))))
    go true h calls = (seen s, (subst (λ t. IsCall (called (Apply e.edit) s) (seen s) (seen t)) (passed-same s (answer (Apply e.edit) s) h) (called-is (Apply e.edit) s), calls))
    go false h calls = one-call (Apply e.edit) s (last_end e.line s (answer (Apply e.edit) s)) (left-last e.line s (answer (Apply e.edit) s))

step-are : (step : Step) (s : Shown (List ℕ)) → AreCalls (step_calls step s) (seen s) (seen (left s (step_end step s)))
step-are (Alone c) s = one-call c.command s (alone_end c.line (answer c.command s)) (left-alone c.line s (answer c.command s))
step-are (Tried e) s = one-call (Apply e.edit) s (tried_end e.line s (answer (Apply e.edit) s)) (left-tried e.line s (answer (Apply e.edit) s))
step-are (Chain first second others) s = chain-are first (second ∷ others) s

calls-append : (first others : List Call) (x y z : Seen) → AreCalls first x y → AreCalls others y z → AreCalls (first ++ others) x z
calls-append [] others x y z h k = subst (λ (u : Seen). AreCalls others u z) h k
calls-append (call ∷ first) others x y z h k = (h.0, (h.1.0, calls-append first others h.0 y z h.1.1 k))

calls-next : (k : Bool) (s : Shown (List ℕ)) (others : Shown (List ℕ) → Executed) (calls : Shown (List ℕ) → List Call)
    → ((t : Shown (List ℕ)) → AreCalls (calls t) (seen t) (seen (others t).shown))
    → (e : StepEnd) → AreCalls (tried_next k s calls e) (seen (left s e)) (seen (steps_next k s others e).shown)
unfolding left
calls-next k s others calls hyp (Ok new) = hyp new
calls-next true s others calls hyp (Err told) = hyp s
calls-next false s others calls hyp (Err told) = refl

are-calls : (k : Bool) (steps : List Step) (s : Shown (List ℕ)) → AreCalls (tried k steps s) (seen s) (seen (executed_steps k steps s).shown)
are-calls k [] s = refl
are-calls k (step ∷ steps) s =
    calls-append (step_calls step s) (tried_next k s (λ t. tried k steps t) (step_end step s)) (seen s) (seen (left s (step_end step s))) (seen (executed_steps k (step ∷ steps) s).shown) (step-are step s)
    (calls-next k s (λ t. executed_steps k steps t) (λ t. tried k steps t) (λ t. are-calls k steps t) (step_end step s))

-- ---- each does as stated

does-as_stated : (call : Call) (x y : Seen) → IsCall call x y → DoesAsStated call x.shown y.shown
does-as_stated (Apply e, Granted) x y h = (h.step, granted-made e x y h)
does-as_stated (Undo, Granted) x y h = h.step
does-as_stated (Redo, Granted) x y h = h.step
does-as_stated (Begin, Granted) x y h = h.step
does-as_stated (End, Granted) x y h = h.step
does-as_stated (Cancel, Granted) x y h = h.step
does-as_stated (c, Refused q) x y h = h.step
does-as_stated (c, NoMemory) x y h = others-kept (c, NoMemory) x y h (λ no. absurd (cc))

do-as_stated : (calls : List Call) (x z : Seen) → AreCalls calls x z → DoAsStated calls x.shown z.shown
do-as_stated [] x z h = ap (λ (s : Seen). s.shown) h
do-as_stated (call ∷ calls) x z h = (h.0.shown, does-as_stated call x h.0 h.1.0, do-as_stated calls h.0 z h.1.1)

-- ---- undoing all

-- the replies to commands that are all `undo`
record AreReplies (calls : List Call) (number : ℕ) : Type 0 where
  pub replies : List Reply
  pub calls_are : calls ≡ map (λ reply. (Undo, reply)) replies
  pub number_is : length replies ≡ number

reply-more : (r : Reply) (calls : List Call) (n : ℕ) → AreReplies calls n → AreReplies ((Undo, r) ∷ calls) (suc n)
reply-more r calls n h = record { replies = r ∷ h.replies; calls_are = ap (λ l. (Undo, r) ∷ l) h.calls_are; number_is = ap suc h.number_is }

replies-next : (c : CommandAt) (s : Shown (List ℕ)) (calls : Shown (List ℕ) → List Call) (n : ℕ) → c.command ≡ Undo
    → ((t : Shown (List ℕ)) → AreReplies (calls t) n) → (a : Answer) → AreReplies ((c.command, reply_of a) ∷ tried_next true s calls (alone_end c.line a)) (suc n)
replies-next c s calls n is hyp (Ok new) = rw is (reply-more Granted (calls new) n (hyp new))
replies-next c s calls n is hyp (Err q) = rw is (reply-more (Refused q) (calls s) n (hyp s))

undo-replies : (undos : List Step) (s : Shown (List ℕ)) → AreUndos undos → AreReplies (tried true undos s) (length undos)
undo-replies [] s are = record { replies = []; calls_are = refl; number_is = refl }
undo-replies (Alone c ∷ undos) s are = replies-next c s (λ t. tried true undos t) (length undos) are.0 (λ t. undo-replies undos t are.1) (answer c.command s)
undo-replies (Tried e ∷ undos) s are = absurd are.0
undo-replies (Chain first second others ∷ undos) s are = absurd are.0

-- all of some calls were granted
AllGranted : List Call → Type 0
AllGranted [] = Unit {0}
AllGranted ((c, r) ∷ calls) = (r ≡ Granted) × AllGranted calls

cons-first : {X : Type 0} (x y : X) (xs ys : List X) → x ∷ xs ≡ y ∷ ys → x ≡ y
cons-first x y xs ys h = cc

cons-rest : {X : Type 0} (x y : X) (xs ys : List X) → x ∷ xs ≡ y ∷ ys → xs ≡ ys
cons-rest x y xs ys h = cc

granted-replies : (replies : List Reply) → replies ≡ replicate (length replies) Granted → AllGranted (map (λ reply. (Undo, reply)) replies)
unfolding AllGranted
granted-replies [] h = tt
granted-replies (r ∷ replies) h = (cons-first r Granted replies (replicate (length replies) Granted) h, granted-replies replies (cons-rest r Granted replies (replicate (length replies) Granted) h))

-- if all calls of some `undo` were granted, nothing was refused or reported, and the run is the same if it stops at a refusal
none-next : (k : Bool) (c : CommandAt) (s : Shown (List ℕ)) (others all : Shown (List ℕ) → Executed) (calls : Shown (List ℕ) → List Call)
    → ((t : Shown (List ℕ)) → AllGranted (calls t) → ((others t).refused ≡ 0) × ((others t).report ≡ []) × ((others t).shown ≡ (all t).shown))
    → (a : Answer) → AllGranted ((c.command, reply_of a) ∷ tried_next true s calls (alone_end c.line a))
    → ((steps_next k s others (alone_end c.line a)).refused ≡ 0) × ((steps_next k s others (alone_end c.line a)).report ≡ [])
    × ((steps_next k s others (alone_end c.line a)).shown ≡ (steps_next true s all (alone_end c.line a)).shown)
unfolding AllGranted
none-next k c s others all calls hyp (Ok new) granted = hyp new granted.1
none-next k c s others all calls hyp (Err q) granted = let no = granted.0 in absurd (cc)

none-refused : (k : Bool) (undos : List Step) (s : Shown (List ℕ)) → AreUndos undos → AllGranted (tried true undos s)
    → ((executed_steps k undos s).refused ≡ 0) × ((executed_steps k undos s).report ≡ []) × ((executed_steps k undos s).shown ≡ (executed_steps true undos s).shown)
none-refused k [] s are granted = (refl, refl, refl)
none-refused k (Alone c ∷ undos) s are granted =
    none-next k c s (λ t. executed_steps k undos t) (λ t. executed_steps true undos t) (λ t. tried true undos t) (λ t. none-refused k undos t are.1) (answer c.command s) granted
none-refused k (Tried e ∷ undos) s are granted = absurd are.0
none-refused k (Chain first second others ∷ undos) s are granted = absurd are.0

-- ---- the output

ended-text : (s : Shown (List ℕ)) → (ended s).text ≡ s.text
ended-text s = go s.begun s.pending
  where
    go : (b : Option (List ℕ)) (n : ℕ)
        → (shown_or s (elim b as (λ (x : Option (List ℕ)). Result (Shown (List ℕ)) (machine.Refusal Refusal)) [ Some t ↦ Ok (shown_ended t n s) | None ↦ Err machine.NoGroup ])).text ≡ s.text
    go None n = refl
    go (Some b) zero = refl
    go (Some b) (suc n) = refl

output-holds : (k : Bool) (n : ℕ) (text : List ℕ) (P : List ℕ → Type 0) → P text → IfSome (output_after k n text) P
output-holds true n text P p = p
output-holds false zero text P p = p
output-holds false (suc n) text P p = tt

no-output_of : (result : RunResult) (outcome : o.Outcome) (P : List ℕ → Type 0) → result ≡ stopped outcome → IfSome result.output P
no-output_of result outcome P is = rw is tt

module _ (makefile script : List ℕ) (depth : ℕ) (k : Bool) (steps : List Step) (result : RunResult) (P : List ℕ → Type 0) (p : P (executed_steps k steps (shown_opened depth makefile)).shown.text) where
  of-steps : IsRunOf steps makefile depth k result → IfSome result.output P
  of-steps (inl (long, is)) = no-output_of result TooLong P is
  of-steps (inr (short, inl (deep, is))) = no-output_of result TooDeep P is
  of-steps (inr (short, inr (shallow, is))) =
      let did = executed_steps k steps (shown_opened depth makefile) in
      rw is (output-holds k did.refused (ended did.shown).text P (subst P (sym (ended-text did.shown)) p))

  of-run : IsScript script steps → IsRun makefile script depth k result → IfSome result.output P
  of-run are (inl (bad, is)) = no-output_of result BadDepth P is
  of-run are (inr (good, inl (long, is))) = no-output_of result TooLong P is
  of-run are (inr (good, inr (short, inl (line, none, is)))) = absurd (not-both script steps line are none)
  of-run are (inr (good, inr (short, inr (others, are_other, run)))) =
      of-steps (subst (λ (cs : List Step). IsRunOf cs makefile depth k result) (steps-one script others steps are_other are) run)

-- ---- steps, and others behind them that are all granted and lead to this text

joined-result : (k : Bool) (did rest : Executed) (text : List ℕ) → GoesOn k did.refused → rest.refused ≡ 0 → rest.report ≡ [] → rest.shown.text ≡ text
    → result_after k (joined did rest) ≡ record { outcome = outcome_after did.refused; report = did.report; output = Some text }
joined-result k did rest text on none silent back =
    let number : did.refused + rest.refused ≡ did.refused = omega (arith, none) in
    let report : did.report ++ rest.report ≡ did.report = ap (λ l. did.report ++ l) silent ∙ append-nil did.report in
    let output : output_after k (did.refused + rest.refused) (ended rest.shown).text ≡ Some text =
    ap (λ n. output_after k n (ended rest.shown).text) number ∙ (output-some k did.refused (ended rest.shown).text on ∙ ap Some (ended-text rest.shown ∙ back)) in
    ap (λ n. record { outcome = outcome_after n; report = did.report ++ rest.report; output = output_after k (did.refused + rest.refused) (ended rest.shown).text }) number
    ∙ (ap (λ l. record { outcome = outcome_after did.refused; report = l; output = output_after k (did.refused + rest.refused) (ended rest.shown).text }) report
    ∙ ap (λ t. record { outcome = outcome_after did.refused; report = did.report; output = t }) output)

-- ---- the headline

module _ (makefile : List ℕ) (depth : ℕ) (k : Bool) (steps : List Step) where
  last : Shown (List ℕ)
  last = (executed_steps k steps (shown_opened depth makefile)).shown

  session-calls : AreCalls (tried k steps (shown_opened depth makefile)) (seen_opened depth makefile) (seen last)
  unfolding seen last
  session-calls = are-calls k steps (shown_opened depth makefile)

  replayed : (executed_steps k steps (shown_opened depth makefile)).shown.text ≡ replay edited makefile (standing (machine_after k steps makefile depth))
  unfolding seen last
  replayed = (standing-replayed depth makefile (tried k steps (shown_opened depth makefile)) (seen last) session-calls).1

  -- as many `undo` as members stand
  record AreTakenBack (undos : List Step) : Type 0 where
    pub none : (executed_steps k undos last).refused ≡ 0
    pub silent : (executed_steps k undos last).report ≡ []
    pub back : (executed_steps k undos last).shown.text ≡ makefile

  all-back : (machine_after k steps makefile depth).floor ≡ 0 → (machine_after k steps makefile depth).group ≡ None
      → (undos : List Step) → AreUndos undos → length undos ≡ length (machine_after k steps makefile depth).done
      → AreTakenBack undos
  unfolding seen last
  all-back floor group undos are number =
      let them = undo-replies undos last are in
      let calls = subst (λ (cs : List Call). AreCalls cs (seen last) (seen (executed_steps true undos last).shown)) them.calls_are (are-calls true undos last) in
      let back = all-undone depth makefile (tried k steps (shown_opened depth makefile)) (seen last) session-calls floor group them.replies (seen (executed_steps true undos last).shown) (them.number_is ∙ number) calls in
      let granted = subst AllGranted (sym them.calls_are) (granted-replies them.replies back.0) in
      let same = none-refused k undos last are granted in
      record { none = same.0; silent = same.1; back = ap (λ (s : Shown (List ℕ)). s.text) same.2 ∙ back.1 }

  -- the steps with such `undo` behind them
  put-back : (undos : List Step) → AreTakenBack undos → GoesOn k (executed_steps k steps (shown_opened depth makefile)).refused
      → result_after k (executed_steps k (steps ++ undos) (shown_opened depth makefile))
      ≡ record { outcome = outcome_after (executed_steps k steps (shown_opened depth makefile)).refused; report = (executed_steps k steps (shown_opened depth makefile)).report; output = Some makefile }
  unfolding last
  put-back undos them on =
      let did = executed_steps k steps (shown_opened depth makefile) in
      ap (result_after k) (executed-append k steps undos (shown_opened depth makefile) on)
      ∙ joined-result k did (executed_steps k undos did.shown) makefile on them.none them.silent them.back

  every-byte_kept : KeepEveryByte k steps makefile depth
  unfolding seen last
  every-byte_kept = record {
    each = do-as_stated (tried k steps (shown_opened depth makefile)) (seen_opened depth makefile) (seen last) session-calls;
    replayed = replayed;
    undone = λ floor group undos are number. let them = all-back floor group undos are number in (them.none, them.back);
    undone_by_script = λ floor group undos are number on. put-back undos (all-back floor group undos are number) on;
  }

-- runs keep every byte that no edit concerns
pub runs-keep : RunsKeepEveryByte
runs-keep makefile script depth k steps result are run = (
  every-byte_kept makefile depth k steps,
  of-run makefile script depth k steps result (λ text. text ≡ replay edited makefile (standing (machine_after k steps makefile depth)))
      (replayed makefile depth k steps) are run,
)

-- ---- scripts without alternatives

commands-next : (k : Bool) (c : CommandAt) (s : Shown (List ℕ)) (others all : Shown (List ℕ) → Executed) → ((t : Shown (List ℕ)) → others t ≡ all t)
    → (a : Answer) → steps_next k s others (alone_end c.line a) ≡ executed_next k c s all a
commands-next k c s others all hyp (Ok new) = hyp new
commands-next true c s others all hyp (Err q) = ap (λ o. after_refusal c.line q o) (hyp s)
commands-next false c s others all hyp (Err q) = refl

-- commands alone come to what commands come to
commands-executed : (k : Bool) (commands : List CommandAt) (s : Shown (List ℕ)) → executed_steps k (map Alone commands) s ≡ executed k commands s
commands-executed k [] s = refl
commands-executed k (c ∷ commands) s =
    commands-next k c s (λ t. executed_steps k (map Alone commands) t) (λ t. executed k commands t) (λ t. commands-executed k commands t) (answer c.command s)

module _ (makefile script : List ℕ) (depth : ℕ) (k : Bool) (commands : List CommandAt) (result : RunResult) (are : IsScriptOfCommands script commands) where
  same-result : result_after k (executed_steps k (map Alone commands) (shown_opened depth makefile)) ≡ result_after k (executed k commands (shown_opened depth makefile))
  same-result = ap (result_after k) (commands-executed k commands (shown_opened depth makefile))

  -- the run of these commands alone is that of the commands
  to-commands : IsRunOf (map Alone commands) makefile depth k result → IsRunOfCommands commands makefile depth k result
  to-commands (inl long) = inl long
  to-commands (inr (short, inl deep)) = inr (short, inl deep)
  to-commands (inr (short, inr (shallow, is))) = inr (short, inr (shallow, is ∙ same-result))

  from-commands : IsRunOfCommands commands makefile depth k result → IsRunOf (map Alone commands) makefile depth k result
  from-commands (inl long) = inl long
  from-commands (inr (short, inl deep)) = inr (short, inl deep)
  from-commands (inr (short, inr (shallow, is))) = inr (short, inr (shallow, is ∙ sym same-result))

  to-run : IsRun makefile script depth k result
      → InCase (IsBadDepth depth) (result ≡ stopped BadDepth) (InCase (IsTooLong script) (result ≡ stopped TooLong) (IsRunOfCommands commands makefile depth k result))
  to-run (inl bad) = inl bad
  to-run (inr (good, inl long)) = inr (good, inl long)
  to-run (inr (good, inr (short, inl (line, none, is)))) = absurd (not-both script (map Alone commands) line (commands-steps script commands are) none)
  to-run (inr (good, inr (short, inr (steps, other, run)))) =
      inr (good, inr (short, to-commands (subst (λ (ss : List Step). IsRunOf ss makefile depth k result) (steps-one script steps (map Alone commands) other (commands-steps script commands are)) run)))

  from-run : InCase (IsBadDepth depth) (result ≡ stopped BadDepth) (InCase (IsTooLong script) (result ≡ stopped TooLong) (IsRunOfCommands commands makefile depth k result))
      → IsRun makefile script depth k result
  from-run (inl bad) = inl bad
  from-run (inr (good, inl long)) = inr (good, inl long)
  from-run (inr (good, inr (short, run))) = inr (good, inr (short, inr (map Alone commands, commands-steps script commands are, from-commands run)))

pub commands-stay : RunsOfCommandsStay
commands-stay script commands are makefile depth k result = (to-run makefile script depth k commands result are, from-run makefile script depth k commands result are)

pub first-commands-stay : RunsOfFirstCommandsStay
first-commands-stay script commands are = commands-stay script commands (of-commands script commands are)
