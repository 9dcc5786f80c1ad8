use Rattle.mk_class.specs.Contexts.{start}
use Rattle.mk_class.specs.ClassedLines.{classed}
use Rattle.mk_class.proofs.on_contexts.ContextLemmas.{context-flag, context-prefix, context-defines, context-conditionals}
use Rattle.mk_class.proofs.laws.contexts_of_all_lines.Goals as goal

pub returns : goal.returns
returns c lines = (context-flag (classed start lines), context-prefix (classed start lines), context-defines lines, context-conditionals lines)
