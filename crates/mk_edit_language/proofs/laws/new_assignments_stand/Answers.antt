use Rattle.mk_edit_language.proofs.on_edits.EditedLineLemmas.{new_assign-lines}
use Rattle.mk_edit_language.proofs.laws.new_assignments_stand.Goals as goal

pub returns : goal.returns
returns c = new_assign-lines
