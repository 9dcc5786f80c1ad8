-- A text that goes out, except its end, which is held back.
-- Told in docs/PROOFS.md, "Reading a makefile".
use Rattle.std.specs.Prelude.{◌≡◌, ℕ, Bool, true, false, List, ◌++◌, Option, Result, OnOk, IfErr}
use Rattle.std.specs.Io.KnownBytes.{Appends}
use Rattle.mk_lines.specs.declared.fault.Fault.{Fault}
use Rattle.mk_lines.specs.declared.fault.Fault.TheVariants.{Write}
use Rattle.mk_lines.specs.Device.{AppendsPrefix}

-- the known bytes of a sink grow by the text, except for the bytes at its end that are held back
abbrev pub AppendsSoFar : (old new : Option (List ℕ)) → (text held : List ℕ) → Type 0
AppendsSoFar old new text held =
    (written : List ℕ) × (written ++ held ≡ text) × Appends old new written

-- A text was put behind bytes that are held back on their way into a sink, which tells its bytes,
-- whether it failed and its flushes. All of it is out, except for bytes at its end that are held back
-- then; or a prefix of what was held back, and of the text, is out, and the fault is Write if the
-- sink failed. Nothing was flushed.
pub record Gathers {S A : Type 0} (contents : S → Option (List ℕ)) (failed : S → Bool)
    (flushes : S → Option ℕ) (old new : S) (held_old held_new : List ℕ) (result : Result A Fault)
    (text : List ℕ) : Type 0 where
  pub whole : OnOk result (AppendsSoFar (contents old) (contents new) (held_old ++ text) held_new)
  pub prefix : AppendsPrefix (contents old) (contents new) (held_old ++ text)
  pub works : OnOk result (failed new ≡ false)
  pub fault : IfErr result (λ e. (e ≡ Write) × (failed new ≡ true))
  pub unflushed : flushes new ≡ flushes old
