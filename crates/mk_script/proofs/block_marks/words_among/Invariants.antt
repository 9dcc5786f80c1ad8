-- The words so far stand before those of the fields that are left.
use Rattle.std.proofs.Common.{◌≡◌, ◌≤◌, ◌++◌, length, drop, map}
use Rattle.mk_script.specs.BlockReading.{plain_fields}
use Rattle.mk_script.specs.BlockWords.{words_among}
use Rattle.mk_script.specs.SeenFields.{bytes, field_texts, seen}
use Rattle.mk_script.proofs.block_marks.words_among.Given as goal

abbrev pub invariant-loop-field : goal.invariant-loop-field
invariant-loop-field l = record {
  few : length l.words.items ≤ l.field-index;
  so_far : map bytes l.words.items ++ words_among l.plain (map seen (drop l.field-index l.fields)) ≡ words_among (plain_fields (field_texts l.fields)) (map seen l.fields);
}
