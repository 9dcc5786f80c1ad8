-- What the readers of a run gave.
use Rattle.std.proofs.Common.{◌≡◌, refl, sym, subst, arith, ℕ, suc, ◌<◌, ◌≤◌, Bool, true, false, List, length, replicate, Option, Some, None, Err}
use Rattle.std.specs.Prelude.{Result, IfSome, IfErr}
use Rattle.std.proofs.lemmas.List.{length-replicate}
use Rattle.mk_lines.specs.Limits.{max_text}
use Rattle.mk_lines.specs.Device.{IsSourceFault}
use Rattle.mk_lines.specs.declared.fault.Fault as f
use Rattle.mk_lines.specs.declared.fault.Fault.TheVariants as fault
use Rattle.mk_run.specs.Outcome.{outcome_of}
use Rattle.mk_script.specs.Scripts.{HasNoCommand, IsScript, Step}
use Rattle.mk_run.specs.Runs.{IsTooLong}
use Rattle.mk_run.specs.RunEnds.{HasText}
use Rattle.mk_run.specs.RunSteps.{Gives, GivesSteps, StopsScript, StopsMakefile}
use Rattle.mk_run.specs.declared.outcome.Outcome.TheVariants.{TooLong}

-- there is a text that is longer than `n` bytes
longer : (n : ℕ) → (text : List ℕ) × (n < length text)
longer n = let byte : ℕ = 0 in (replicate (suc n) byte, omega (arith, length-replicate (suc n) byte))

-- a reader that had too many bytes for one text
too-much : (bytes : Option (List ℕ)) → IfSome bytes (λ told. max_text < length told) → Gives bytes IsTooLong
too-much None long = let t = longer max_text in record { text = t.0; has_text = tt; holds = t.1 }
too-much (Some told) long = record { text = told; has_text = refl; holds = long }

if_some : (bytes : Option (List ℕ)) (P : Type 0) (Q : List ℕ → Type 0) → P → IfSome bytes (λ told. P → Q told) → IfSome bytes Q
if_some None P Q p h = tt
if_some (Some told) P Q p h = h p

-- a script whose steps are known is not too long
pub short-script : (bytes : Option (List ℕ)) (steps : List Step) (P : Type 0) → GivesSteps bytes steps → IfSome bytes (λ told. IsTooLong told → P)
short-script None steps P h = tt
short-script (Some told) steps P h = λ long. absurd (h.short (subst IsTooLong (sym h.has_text) long))

-- what reading a source to its end says of a fault
pub record SaysFault {T : Type 0} (result : Result T f.Fault) (bytes : Option (List ℕ)) (failed : Bool) : Type 0 where
  pub few : IfErr result IsSourceFault
  pub long : IfSome bytes (λ told. result ≡ Err fault.TooLong → max_text < length told)
  pub read : result ≡ Err fault.Read → failed ≡ true
  pub works : (result ≡ Err fault.Read → ⊥) → failed ≡ false

told-fault : {T : Type 0} (bytes : Option (List ℕ)) (failed : Bool) (e : f.Fault) → SaysFault {T = T} (Err e) bytes failed
    → StopsScript bytes failed (outcome_of e) × StopsMakefile bytes failed (outcome_of e)
told-fault {T} bytes failed fault.NoMemory h = let works = h.works (λ no. absurd (cc)) in (works, works)
told-fault {T} bytes failed fault.TooLong h =
    let stops : StopsScript bytes failed TooLong = (h.works (λ no. absurd (cc)), too-much bytes (if_some bytes _ (λ told. max_text < length told) refl h.long)) in (stops, stops)
told-fault {T} bytes failed fault.TooDeep h = absurd h.few
told-fault {T} bytes failed fault.BadDepth h = absurd h.few
told-fault {T} bytes failed fault.Read h = (h.read refl, h.read refl)
told-fault {T} bytes failed fault.Write h = absurd h.few

-- a script or a makefile that could not be read
pub unread : {T : Type 0} (result : Result T f.Fault) (bytes : Option (List ℕ)) (failed : Bool) (e : f.Fault) → result ≡ Err e → SaysFault result bytes failed
    → StopsScript bytes failed (outcome_of e) × StopsMakefile bytes failed (outcome_of e)
unread {T} result bytes failed e is h = told-fault {T = T} bytes failed e (subst (λ (r : Result T f.Fault). SaysFault r bytes failed) is h)

-- a script of n bytes that was read: it has these steps, or a line that is no command
module _ (bytes : Option (List ℕ)) (n : ℕ) (text shown : List ℕ) (has_text : HasText bytes text) (counted : n ≡ length text) (within : n ≤ max_text) (same : shown ≡ text) where
  is-short : IsTooLong text → ⊥
  is-short long = omega (arith, long, counted, within)

  pub gives-steps : (steps : List Step) → IsScript shown steps → GivesSteps bytes steps
  gives-steps steps is_script = record { text = text; has_text = has_text; short = is-short; is_script = subst (λ (it : List ℕ). IsScript it steps) same is_script }

  pub gives-no-command : (line : ℕ) → HasNoCommand shown line → Gives bytes (λ text. (IsTooLong text → ⊥) × HasNoCommand text line)
  gives-no-command line no_command = record { text = text; has_text = has_text; holds = (is-short, subst (λ (it : List ℕ). HasNoCommand it line) same no_command) }
