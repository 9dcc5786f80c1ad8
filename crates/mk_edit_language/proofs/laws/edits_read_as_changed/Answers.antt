use Rattle.mk_edit_language.proofs.on_edits.EditLemmas.{edits-read}
use Rattle.mk_edit_language.proofs.laws.edits_read_as_changed.Goals as goal

pub returns : goal.returns
returns c = edits-read
