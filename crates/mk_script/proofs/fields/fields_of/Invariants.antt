-- The fields so far stand before the fields of the rest.
use Rattle.std.proofs.Common.{◌≡◌, ◌-◌, ◌≤◌, length}
use Rattle.mk_script.specs.FieldReading.{fields_within}
use Rattle.mk_script.specs.SeenFields.{gathered}
use Rattle.mk_script.proofs.on_fields.FirstLemmas.{with_fields}
use Rattle.mk_script.proofs.fields.fields_of.Given as goal

abbrev pub invariant-read : goal.invariant-read
invariant-read l = record {
  few : length l.fields.items ≤ 9;
  so_far : fields_within 9 l.line ≡ with_fields (gathered l.fields) (fields_within (9 - length l.fields.items) l.rest);
}

abbrev pub decreases-read : goal.decreases-read
decreases-read l = 9 - length l.fields.items
