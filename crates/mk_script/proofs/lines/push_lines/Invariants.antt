-- The text so far, and then the lines that are left, are the text with all lines.
use Rattle.std.proofs.Common.{◌≡◌, ◌++◌, take}
use Rattle.mk_script.specs.Blocks.{block_text}
use Rattle.mk_script.specs.Lines.{script_lines}
use Rattle.mk_script.proofs.on_fields.LinesLemmas.{left_text}
use Rattle.mk_script.proofs.lines.push_lines.Given as goal

abbrev pub invariant-lines : goal.invariant-lines
invariant-lines g l = record {
  can : (goal.iterator-lines g).can_next l.lines;
  finite : (goal.iterator-lines g).is_finite l.lines;
  so_far : l.text.items ++ left_text l.is_first (take l.left l.lines) ≡ l.fn.text.items ++ block_text (take l.count (script_lines l.fn.script));
}

abbrev pub decreases-lines : goal.decreases-lines
decreases-lines g l = l.left
