-- The end of a run: a group that is still open is ended, and the text goes out.
use Rattle.std.proofs.Common.{◌≡◌, refl, sym, ap, ◌∙◌, ℕ, List, Option, Ok, Err}
use Rattle.std.specs.Prelude.{Result, OnOk, OnErr, IfErr}
use Rattle.std.specs.Io.KnownBytes.{Appends, Keeps}
use Rattle.std.proofs.KnownBytes.{Appends-kept}
use Rattle.mk_edit_language.specs.declared.refusal.Refusal.{Refusal}
use Rattle.mk_history.specs.Machine as machine
use Rattle.mk_history.specs.Machine.{End}
use Rattle.mk_history.specs.Shown.{Shown}
use Rattle.mk_session.specs.Sessions.{answer, IsRefusedBy}
use Rattle.mk_run.specs.Runs.{ended, shown_or}

-- what `end` of a session leaves
pub ended-is : {X : Type 0} (result : Result X Refusal) (old new : Shown (List ℕ)) → OnOk result (answer End old ≡ Ok new) → IfErr result (λ r. IsRefusedBy (answer End old) r) → OnErr result (new ≡ old) → new ≡ ended old
ended-is (Ok u) old new done refused same = sym (ap (shown_or old) done)
ended-is (Err r) old new done refused same = go (answer End old) refl refused
  where
    go : (a : Result (Shown (List ℕ)) (machine.Refusal Refusal)) → answer End old ≡ a → IsRefusedBy a r → new ≡ ended old
    go (Ok s) h told = absurd told
    go (Err q) h told = same ∙ sym (ap (shown_or old) h)

pub flushed-whole : {E : Type 0} (result : Result (Unit {0}) E) (a b c : Option (List ℕ)) (text : List ℕ) → Appends a b text → Keeps b c → OnOk result (Appends a c text)
flushed-whole (Ok u) a b c text out kept = Appends-kept a b c text out kept
flushed-whole (Err e) a b c text out kept = tt
