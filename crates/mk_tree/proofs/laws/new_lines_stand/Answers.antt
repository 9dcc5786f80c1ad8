use Rattle.std.proofs.Common.{refl}
use Rattle.mk_lines.specs.PhysicalLines.{file_line_end}
use Rattle.mk_tree.specs.ChangeLaws.{new_line_below}
use Rattle.mk_tree.proofs.on_changes.NewLineLemmas.{file_line_end-some, new_line-clean, line-added, items-above_ended}
use Rattle.mk_tree.proofs.laws.new_lines_stand.Goals as goal

pub returns : goal.returns
returns c text new above below h o clean last agree free =
    let e = file_line_end text in
    let n = file_line_end-some text in (
      line-added text above below new e (new_line_below text above new).class h o n (new_line-clean new e clean last n) refl agree free,
      items-above_ended text above below e h o n,
    )
