use Rattle.std.proofs.Common.{ap}
use Rattle.mk_edit_language.specs.Refusals.{text_by}
use Rattle.mk_edit_language.proofs.laws.refused_changes_nothing.Goals as goal

pub returns : goal.returns
returns c = λ edit text refusal h. ap (text_by text) h
