use Rattle.std.proofs.Common.{refl, subst, arith}
use Rattle.std.proofs.lemmas.Bool.Decides.{Decides-eqb}
use Rattle.std.proofs.lemmas.Slice.Eq.{slice_eq-Decides}
use Rattle.bstr.specs.Find.{IsFirstByte, is_byte}
use Rattle.mk_script.proofs.on_fields.BlockTexts.{rest-shorter, line-within, word-there, word-later, word-last}
use Rattle.mk_script.proofs.end_words.has_line.Goals as goal

pub lines-init : goal.lines-init
lines-init c = record { within = omega arith; same = refl }

pub overflow_add-rest : goal.overflow_add-rest
overflow_add-rest c =
    let within = line-within c.lines.rest.now c.in-Some.feed (subst (IsFirstByte (is_byte 10) c.lines.rest.now) c.in-Some.is c.find_byte.ensures) in
    omega (arith, within, c.lines.invariant.within)

pub lines-preserved : goal.lines-preserved
lines-preserved c = record {
  within = omega (arith, rest-shorter c.lines.rest.now c.in-Some.feed, c.lines.invariant.within);
  same =
      word-later c.lines.rest.now c.args.word.now c.in-Some.feed _ (subst (IsFirstByte (is_byte 10) c.lines.rest.now) c.in-Some.is c.find_byte.ensures)
      (λ same. let yes = (slice_eq-Decides Decides-eqb _ _ _ c.eq.ensures).1 same in let unequal = c.if-eq.false in absurd (cc)) c.lines.invariant.same;
}

pub returns-then-eq : goal.returns-then-eq
returns-then-eq c =
    word-there c.lines.rest.now c.args.word.now c.in-Some.feed _ (subst (IsFirstByte (is_byte 10) c.lines.rest.now) c.in-Some.is c.find_byte.ensures)
    ((slice_eq-Decides Decides-eqb _ _ _ c.eq.ensures).0 c.if-eq.true) c.lines.invariant.same

pub returns : goal.returns
returns c =
    let same = slice_eq-Decides Decides-eqb _ _ _ c.eq-2.ensures in
    word-last c.lines.rest.now c.args.word.now c.eq-2.result _ (subst (IsFirstByte (is_byte 10) c.lines.rest.now) c.in_default.is c.find_byte.ensures) same.0 same.1 c.lines.invariant.same
