use Rattle.mk_script.proofs.on_written.CommandTexts.{lines-put}
use Rattle.mk_script.proofs.written_block.CommandText.with_lines.Goals as goal

pub returns : goal.returns
returns g c =
    lines-put c.args.block.now c.in_ok-word.word.items c.args.self.line.items c.args.self.below.items c.extend_from_slice.new.self.items c.extend_from_slice-2.new.self.items c.push_line.new.lines.items
    c.push_line-2.new.lines.items c.requires c.in_ok-word.ensures.word c.in_ok-word.ensures.free c.in_ok-word.ensures.is_word c.in_ok-extend_from_slice.ensures.items
    (rw c.deref.ensures.value at c.in_ok-extend_from_slice-2.ensures.items) c.in_ok-push_line.ensures (rw c.deref-2.ensures.value at c.in_ok-push_line-2.ensures)
