use Rattle.mk_edit_language.proofs.on_edits.SpansRise.{only_spans-replaced}
use Rattle.mk_edit_language.proofs.laws.outside.only_spans_are_replaced.Goals as goal

pub returns : goal.returns
returns c text e rs h = only_spans-replaced text e rs h
