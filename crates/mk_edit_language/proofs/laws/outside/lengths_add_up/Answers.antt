use Rattle.mk_edit_language.proofs.on_edits.LengthLemmas.{length-after}
use Rattle.mk_edit_language.proofs.laws.outside.lengths_add_up.Goals as goal

pub returns : goal.returns
returns c text e replacements h = length-after text e replacements h
