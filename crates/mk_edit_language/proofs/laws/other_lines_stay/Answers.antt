use Rattle.mk_edit_language.proofs.on_edits.EditedLineLemmas.{removed-lines}
use Rattle.mk_edit_language.proofs.laws.other_lines_stay.Goals as goal

pub returns : goal.returns
returns c = removed-lines
