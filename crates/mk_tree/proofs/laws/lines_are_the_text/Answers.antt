use Rattle.mk_tree.proofs.on_documents.DocumentLemmas.{text_of-classed_lines}
use Rattle.mk_tree.proofs.laws.lines_are_the_text.Goals as goal

pub returns : goal.returns
returns c = text_of-classed_lines
