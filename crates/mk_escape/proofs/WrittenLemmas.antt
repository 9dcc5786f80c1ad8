-- A text that is written in three parts.
use Rattle.std.proofs.Common.{◌∙◌, ℕ, Bool, List, ◌++◌, Ok, Err}
use Rattle.std.specs.Prelude.{Option, Result}
use Rattle.std.proofs.KnownBytes.{Appends-trans}
use Rattle.mk_lines.specs.Device.{Writes}
use Rattle.mk_lines.specs.declared.fault.Fault.{Fault}
use Rattle.mk_lines.proofs.PrefixLemmas.{AppendsPrefix-more}

-- two parts are out whole, and then the third is written
pub written-last : {S : Type 0} {contents : S → Option (List ℕ)} {failed : S → Bool} {flushes : S → Option ℕ} {a b c d : S} {result : Result Unit Fault} {x y z : List ℕ} {u v : Unit {0}}
    → Writes contents failed flushes a b (Ok u) x → Writes contents failed flushes b c (Ok v) y → Writes contents failed flushes c d result z
    → Writes contents failed flushes a d result (x ++ (y ++ z))
written-last {result = Ok w} one two three = record {
  whole = Appends-trans _ _ _ _ _ one.whole (Appends-trans _ _ _ _ _ two.whole three.whole);
  prefix = AppendsPrefix-more _ _ _ _ _ one.whole (AppendsPrefix-more _ _ _ _ _ two.whole three.prefix);
  works = three.works;
  fault = tt;
  unflushed = three.unflushed ∙ (two.unflushed ∙ one.unflushed);
}
written-last {result = Err e} one two three = record {
  whole = tt;
  prefix = AppendsPrefix-more _ _ _ _ _ one.whole (AppendsPrefix-more _ _ _ _ _ two.whole three.prefix);
  works = tt;
  fault = three.fault;
  unflushed = three.unflushed ∙ (two.unflushed ∙ one.unflushed);
}
