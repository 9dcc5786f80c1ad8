use Rattle.mk_edit_language.proofs.on_edits.EditLemmas.{spans-touch_few}
use Rattle.mk_edit_language.proofs.laws.outside.spans_touch_few_lines.Goals as goal

pub returns : goal.returns
returns c text e rs p h = spans-touch_few text e rs p h
