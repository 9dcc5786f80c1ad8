use Rattle.std.proofs.Common.{◌≡◌, ◌≢◌, ℕ, ◌-◌, ◌<◌, ◌≤◌, false, [], ◌∷◌, ◌++◌, length, map, sym, ap, ◌∙◌, arith, eq-eqb}
use Rattle.std.specs.Prelude.{◌==◌}
use Rattle.std.proofs.lemmas.List.{map-append}
use Rattle.mk_script.specs.FieldReading.{fields_within}
use Rattle.mk_script.specs.SeenFields.{seen}
use Rattle.mk_script.proofs.on_fields.FirstLemmas.{with_fields, fields-more, fields-end}
use Rattle.mk_script.proofs.fields.fields_of.Goals as goal

not_full : (n : ℕ) → n ≤ 9 → (n == 9) ≡ false → n < 9
not_full n few h = let other : n ≢ 9 = λ e. (let is = eq-eqb n 9 e in absurd (cc)) in omega (arith, few, other)

pub read-preserved : goal.read-preserved
read-preserved c =
    let old = c.read.fields.items in
    let new = c.push.new.self.items in
    let f = c.in_ok-field.field in
    let room : length old < 9 = not_full (length old) c.read.invariant.few (sym c.is_full.ensures.value ∙ c.if-is_full.false) in
    let len = c.push.ensures.len in
    let longer : map seen new ≡ map seen old ++ seen f ∷ [] = ap (map seen) c.push.ensures.items ∙ map-append seen old (f ∷ []) in
    record {
      few = omega (arith, room, len);
      so_far =
          c.read.invariant.so_far
          ∙ (fields-more (9 - length old) (9 - length new) c.read.rest.now (seen f) c.in_ok-field.others.now (map seen old) (omega (arith, room, len)) (sym c.is_blank.ensures ∙ c.read-test.true) c.in_ok-field.ensures
          ∙ ap (λ fs. with_fields fs (fields_within (9 - length new) c.in_ok-field.others.now)) (sym longer));
    }

pub returns : goal.returns
returns c = c.read.invariant.so_far ∙ fields-end (9 - length c.read.fields.items) c.read.rest.now (map seen c.read.fields.items) (sym c.is_blank.ensures ∙ c.read-test.false)
