-- The line so far, and then the rest of the fields, is the line with all fields.
use Rattle.std.proofs.Common.{◌≡◌, ◌++◌, drop, map}
use Rattle.mk_lines.specs.Spacing.{each_after_space}
use Rattle.mk_script.specs.WrittenEdits.{written}
use Rattle.mk_script.specs.WrittenLines.{fields_in}
use Rattle.mk_script.proofs.written_field.push_fields.Given as goal

abbrev pub invariant-loop-field : goal.invariant-loop-field
invariant-loop-field g l =
    l.line.items ++ each_after_space (map written (fields_in (drop l.field-index l.fields)))
    ≡ l.fn.line.items ++ each_after_space (map written (fields_in l.fields))
