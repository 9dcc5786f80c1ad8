use Rattle.mk_edit_parts.proofs.on_new_lines.NewLineTexts.{joined-put}
use Rattle.mk_edit_parts.proofs.new_line.push_joined.Goals as goal

pub returns : goal.returns
returns g c = joined-put c.push_each_spaced.result c.args.text.now c.in-Some.word.now c.in-Some.after.now c.args.bytes.now.items _ _ c.in-Some.ensures.words c.in_ok-extend_from_slice.ensures.items c.push_each_spaced.ensures
