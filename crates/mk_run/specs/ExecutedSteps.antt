-- The steps of a script, which the session machine executes one after the other: what it makes of a
-- refusal behind `try`, and in a chain of alternatives.
-- Told in docs/PROOFS.md, "A run".
use Rattle.std.specs.Prelude.{◌≡◌, ◌⊎◌, ℕ, Bool, true, false, ◌||◌, if◌then◌else◌, List, [], ◌∷◌, Result, Ok, Err}
use Rattle.mk_edit_language.specs.Edits.{Edit}
use Rattle.mk_edit_language.specs.declared.refusal.Refusal.{Refusal}
use Rattle.mk_edit_language.specs.declared.refusal.Refusal.TheVariants as refusal
use Rattle.mk_history.specs.Machine as machine
use Rattle.mk_history.specs.Machine.{Command, Apply}
use Rattle.mk_history.specs.Shown.{Shown}
use Rattle.mk_session.specs.Sessions.{answer, session_refusal}
use Rattle.mk_script.specs.Scripts.{EditAt, Step, Alone, Tried, Chain}
use Rattle.mk_run.specs.ExecutedCommands.{Executed, at_rest, after_refusal}

-- ---- idle refusals

-- a refusal says that there is nothing on which the edit is to be made
abbrev pub is_missing : Refusal → Bool
is_missing refusal.NoSuch = true
is_missing other = false

-- a refusal says that there is nothing to do: the text is as the edit would have it
abbrev pub is_met : Refusal → Bool
is_met refusal.Absent = true
is_met refusal.Already = true
is_met other = false

-- ---- one step

-- What an answer of the session machine comes to: what is shown after it; or its refusal.
abbrev pub Answer : Type 0
Answer = Result (Shown (List ℕ)) (machine.Refusal Refusal)

-- What a step comes to: what is shown after it; or the refusal that is told, with the number of its
-- line.
abbrev pub StepEnd : Type 0
StepEnd = Result (Shown (List ℕ)) (ℕ × machine.Refusal Refusal)

-- what is shown before a command whose refusal is none, or the refusal
abbrev pub unless : Bool → (line : ℕ) → (before : Shown (List ℕ)) → machine.Refusal Refusal → StepEnd
unless true n s q = Ok s
unless false n s q = Err (n, q)

-- a command alone: each refusal is told
abbrev pub alone_end : (line : ℕ) → Answer → StepEnd
alone_end n (Ok new) = Ok new
alone_end n (Err q) = Err (n, q)

-- an edit behind `try`: an idle refusal is none
abbrev pub tried_end : (line : ℕ) → (before : Shown (List ℕ)) → Answer → StepEnd
tried_end n s (Ok new) = Ok new
tried_end n s (Err q) = unless (is_missing (session_refusal q) || is_met (session_refusal q)) n s q

-- an edit of a chain that no alternative follows: a refusal is none if there is nothing to do
abbrev pub last_end : (line : ℕ) → (before : Shown (List ℕ)) → Answer → StepEnd
last_end n s (Ok new) = Ok new
last_end n s (Err q) = unless (is_met (session_refusal q)) n s q

-- an edit of a chain is passed over: there is nothing on which it is to be made
abbrev pub is_passed : Answer → Bool
is_passed (Ok new) = false
is_passed (Err q) = is_missing (session_refusal q)

-- A chain: an edit that is passed over leaves the chain to the alternatives below it. Any other
-- answer ends the chain, and so does the last edit.
abbrev pub chain_end : (first : EditAt) → (others : List EditAt) → (before : Shown (List ℕ)) → StepEnd
chain_end e [] s = last_end e.line s (answer (Apply e.edit) s)
chain_end e (o ∷ others) s =
    if is_passed (answer (Apply e.edit) s)
    then chain_end o others s
    else last_end e.line s (answer (Apply e.edit) s)

-- what a step comes to, from what is shown before it
abbrev pub step_end : Step → (before : Shown (List ℕ)) → StepEnd
step_end (Alone c) s = alone_end c.line (answer c.command s)
step_end (Tried e) s = tried_end e.line s (answer (Apply e.edit) s)
step_end (Chain first second others) s = chain_end first (second ∷ others) s

-- A step tries this command, from what is shown before it. In a chain each edit above it is passed
-- over.
abbrev pub ChainTries : (first : EditAt) → (others : List EditAt) → (before : Shown (List ℕ))
    → Command Edit → Type 0
ChainTries e [] s c = c ≡ Apply e.edit
ChainTries e (o ∷ others) s c =
    (c ≡ Apply e.edit)
    ⊎ ((is_passed (answer (Apply e.edit) s) ≡ true) × ChainTries o others s c)

abbrev pub Tries : Step → (before : Shown (List ℕ)) → Command Edit → Type 0
Tries (Alone d) s c = c ≡ d.command
Tries (Tried e) s c = c ≡ Apply e.edit
Tries (Chain first second others) s c = ChainTries first (second ∷ others) s c

-- ---- steps

-- What steps come to, by what the first comes to. If no refusal is told, the others follow from what
-- is shown then. If one is told, nothing has changed, and the others follow if the run keeps going.
abbrev pub steps_next : (keep_going : Bool) → (before : Shown (List ℕ))
    → (others : Shown (List ℕ) → Executed) → StepEnd → Executed
steps_next k s others (Ok new) = others new
steps_next true s others (Err told) = after_refusal told.0 told.1 (others s)
steps_next false s others (Err told) = after_refusal told.0 told.1 (at_rest s)

-- what steps come to, from what is shown before them
abbrev pub executed_steps : (keep_going : Bool) → List Step → Shown (List ℕ) → Executed
executed_steps k [] s = at_rest s
executed_steps k (step ∷ steps) s =
    steps_next k s (λ t. executed_steps k steps t) (step_end step s)
