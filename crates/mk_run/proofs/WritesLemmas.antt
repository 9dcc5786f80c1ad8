-- A text that is written in two parts.
use Rattle.std.proofs.Common.{◌∙◌, ℕ, Bool, List, ◌++◌, Ok, Err}
use Rattle.std.specs.Prelude.{Option, Result}
use Rattle.std.proofs.KnownBytes.{Appends-trans}
use Rattle.mk_lines.specs.Device.{Writes}
use Rattle.mk_lines.specs.declared.fault.Fault.{Fault}
use Rattle.mk_lines.proofs.PrefixLemmas.{AppendsPrefix-more}

-- the first part is out whole, and then the second is written
pub writes-then : {S : Type 0} {contents : S → Option (List ℕ)} {failed : S → Bool} {flushes : S → Option ℕ} {old between new : S} {result : Result Unit Fault} {x y : List ℕ} {u : Unit {0}}
    → Writes contents failed flushes old between (Ok u) x → Writes contents failed flushes between new result y → Writes contents failed flushes old new result (x ++ y)
writes-then {result = Ok v} one two = record {
  whole = Appends-trans _ _ _ _ _ one.whole two.whole;
  prefix = AppendsPrefix-more _ _ _ _ _ one.whole two.prefix;
  works = two.works;
  fault = tt;
  unflushed = two.unflushed ∙ one.unflushed;
}
writes-then {result = Err e} one two = record {
  whole = tt;
  prefix = AppendsPrefix-more _ _ _ _ _ one.whole two.prefix;
  works = tt;
  fault = two.fault;
  unflushed = two.unflushed ∙ one.unflushed;
}
