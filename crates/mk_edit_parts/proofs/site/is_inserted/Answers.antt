use Rattle.std.proofs.Common.{◌≡◌, ◌∙◌, ap, sym, subst, true}
use Rattle.mk_class.specs.ClassedLines.{classed_lines}
use Rattle.mk_tree.specs.LocatedLines.{located_text}
use Rattle.mk_edit_language.specs.LineRuns.{is_block, is_in_run}
use Rattle.mk_edit_parts.specs.LineRunsFound.{block_seen}
use Rattle.mk_edit_parts.proofs.site.is_inserted.Goals as goal

pub returns-in-Some : goal.returns-in-Some
returns-in-Some g c = λ s above lines. c.is_in_run.ensures s above lines ∙ ap (λ o. is_in_run (block_seen o) (classed_lines (located_text c.args.doc.now)) s) (sym c.in-Some.is)

pub returns-in-None : goal.returns-in-None
returns-in-None g c = λ s above lines. absurd (let e = subst (λ o. is_block (block_seen o) ≡ true) c.in-None.is c.requires.block in cc)
