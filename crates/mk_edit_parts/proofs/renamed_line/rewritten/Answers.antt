use Rattle.std.proofs.Common.{length}
use Rattle.mk_edit_parts.proofs.on_renaming.WrittenLemmas.{first-apart}
use Rattle.mk_edit_parts.proofs.renamed_line.rewritten.Goals as goal

pub write_word-requires-clause-within : goal.write_word-requires-clause-within
write_word-requires-clause-within g c = first-apart c.left.done (length c.args.text.now) c.left.left.now _ c.left.invariant.apart c.in-len1-up.len_at_least
