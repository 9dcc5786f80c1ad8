use Rattle.mk_edit_language.proofs.on_edits.EditLemmas.{edits-keep}
use Rattle.mk_edit_language.proofs.laws.outside.edits_keep_others.Goals as goal

pub returns : goal.returns
returns c edit = edits-keep edit
