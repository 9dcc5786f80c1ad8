-- What reading a source to its end and writing a text out do to the bytes and the counts of a
-- device.
use Rattle.std.specs.Prelude.{◌≡◌, ℕ, ◌+◌, ◌≤◌, Bool, true, false, ◌==◌, ◌&&◌, nat_lt, List, [], ◌∷◌, ◌++◌, length, take, Option, None, Some, Result, Ok, Err, OnOk, IfErr}
use Rattle.std.specs.Borrow.{Bor}
use Rattle.std.specs.Io.KnownBytes.{Appends, Consumes}
use Rattle.mk_lines.specs.declared.fault.Fault.{Fault}
use Rattle.mk_lines.specs.declared.fault.Fault.TheVariants.{NoMemory, TooLong, TooDeep, BadDepth, Read, Write}

-- the known bytes of a sink grow by some prefix of the text
abbrev pub AppendsPrefix : Option (List ℕ) → Option (List ℕ) → List ℕ → Type 0
AppendsPrefix old new text = (n : ℕ) × (n ≤ length text) × Appends old new (take n text)

-- A text was written into a sink, which tells its bytes, whether it failed and its flushes: the whole
-- text, or a prefix of it and the fault Write if the sink failed. Nothing was flushed.
pub record Writes {S : Type 0} (contents : S → Option (List ℕ)) (failed : S → Bool)
    (flushes : S → Option ℕ) (old new : S) (result : Result Unit Fault) (text : List ℕ)
    : Type 0 where
  pub whole : OnOk result (Appends (contents old) (contents new) text)
  pub prefix : AppendsPrefix (contents old) (contents new) text
  pub works : OnOk result (failed new ≡ false)
  pub fault : IfErr result (λ e. (e ≡ Write) × (failed new ≡ true))
  pub unflushed : flushes new ≡ flushes old

-- a write of the text failed: it answered a fault, or it took no byte though the text is not empty
abbrev pub is_refused : {E : Type 0} → Result ℕ E → List ℕ → Bool
is_refused (Ok n) text = (n == 0) && nat_lt 0 (length text)
is_refused (Err e) text = true

-- a read answered that no bytes are left: it answered 0 for a buffer that is not empty
abbrev pub is_end : {E : Type 0} → Result ℕ E → List ℕ → Bool
is_end (Ok n) buf = (n == 0) && nat_lt 0 (length buf)
is_end (Err e) buf = false

-- how many bytes a write took
abbrev pub count_taken : {E : Type 0} → Result ℕ E → ℕ
count_taken (Ok n) = n
count_taken (Err e) = 0

-- the count that a device tells, raised by `more`
abbrev pub count_more : Option ℕ → ℕ → Option ℕ
count_more None more = None
count_more (Some n) more = Some (n + more)

-- the count of a device: raised by one if something happened, and otherwise as it was
abbrev pub count_if : Bool → Option ℕ → Option ℕ
count_if true count = count_more count 1
count_if false count = count

-- a count that starts again from 0 if something happened
abbrev pub reset_if : Bool → Option ℕ → Option ℕ
reset_if true None = None
reset_if true (Some n) = Some 0
reset_if false count = count

-- known bytes lose at most `limit` bytes at their front
abbrev pub TakesAtMost : Option (List ℕ) → Option (List ℕ) → ℕ → Type 0
TakesAtMost old new limit = (taken : List ℕ) × (length taken ≤ limit) × Consumes old new taken

-- the parts joined
abbrev pub text_of_parts : List (Bor (List ℕ)) → List ℕ
text_of_parts [] = []
text_of_parts (part ∷ parts) = part.now ++ text_of_parts parts

-- a fault that reading a source to its end can answer
abbrev pub IsSourceFault : Fault → Type 0
IsSourceFault NoMemory = Unit {0}
IsSourceFault TooLong = Unit {0}
IsSourceFault TooDeep = ⊥
IsSourceFault BadDepth = ⊥
IsSourceFault Read = Unit {0}
IsSourceFault Write = ⊥
