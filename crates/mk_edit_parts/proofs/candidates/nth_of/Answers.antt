use Rattle.std.proofs.Common.{◌≡◌, ◌∙◌, ◌<◌, sym, ap, arith, suc, ◌-◌, length}
use Rattle.mk_edit_language.specs.Spots.{nth_of}
use Rattle.mk_edit_parts.proofs.on_finding.CandidateLemmas.{nth-none, nth-past, nth-there}
use Rattle.mk_edit_parts.proofs.candidates.nth_of.Goals.{then-number-eq0-via-then-number-eq0, then-number-eq0-via-else-number-eq0+then-number-places}
use Rattle.mk_edit_parts.proofs.candidates.nth_of.Goals as goal

pub returns-then-number-eq0 : goal.returns-then-number-eq0
returns-then-number-eq0 c = elim c.then-number-eq0.branch [
  | then-number-eq0-via-then-number-eq0 w ↦ sym (nth-none c.args.number c.args.places.now w.if-number-eq0.true)
  | then-number-eq0-via-else-number-eq0+then-number-places w ↦ sym (nth-past c.args.number c.args.places.now w.if-number-places.true)
]

pub returns : goal.returns
returns c =
    let places = c.args.places.now in
    let within : c.args.number - 1 < length places = omega (arith, c.if-number-eq0.false, c.if-number-places.false) in
    let next : c.args.number ≡ suc (c.args.number - 1) = omega (arith, c.if-number-eq0.false) in
    sym (ap (λ n. nth_of n places) next ∙ nth-there (c.args.number - 1) places c.index-places-number.result within c.index-places-number.is)
