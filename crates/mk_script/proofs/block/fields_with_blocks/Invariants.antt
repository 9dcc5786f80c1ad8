-- The texts so far stand before those of the fields that are left.
use Rattle.std.proofs.Common.{◌≡◌, ◌+◌, ◌≤◌, length, drop, map}
use Rattle.mk_script.specs.BlockReading.{filled_fields, texts_of_line}
use Rattle.mk_script.specs.SeenFields.{gathered_texts, seen}
use Rattle.mk_script.proofs.on_commands.FilledLemmas.{put_texts}
use Rattle.mk_script.proofs.block.fields_with_blocks.Given as goal

abbrev pub invariant-loop-field : goal.invariant-loop-field
invariant-loop-field l = record {
  as_many : length l.all.items ≡ l.field-index;
  few : length l.found ≤ 9;
  so_far : put_texts (gathered_texts l.all) (filled_fields l.plain (map seen (drop l.field-index l.found)) l.below.lines) ≡ texts_of_line l.line l.fn.below.lines;
  number : l.below.number + length l.below.lines ≡ l.fn.below.number + length l.fn.below.lines;
}
