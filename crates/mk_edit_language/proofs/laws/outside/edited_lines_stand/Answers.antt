use Rattle.mk_edit_language.proofs.on_edits.EditedLineLemmas.{edited}
use Rattle.mk_edit_language.proofs.laws.outside.edited_lines_stand.Goals as goal

pub returns : goal.returns
returns c text e replacements touched h place = (edited text e replacements touched place h).after
