use Rattle.std.proofs.Common.{◌∙◌, ◌∷◌, [], ap}
use Rattle.mk_tree.specs.Trees.{line_view}
use Rattle.mk_patch.specs.Moves.{after_moves}
use Rattle.mk_patch.specs.StepMoves.{move_of}
use Rattle.mk_edit_parts.proofs.on_finding.PlaceLemmas.{classed-at}
use Rattle.mk_edit_parts.proofs.on_finding.SeekLemmas.{faithful-each}
use Rattle.mk_index.proofs.on_effects.SameLemmas.{exchanged-classed, exchanged-right}
use Rattle.mk_index.proofs.effect.effect_of.Goals as goal

pub assign_same-requires-clause-old : goal.assign_same-requires-clause-old
assign_same-requires-clause-old g c = classed-at c.args.doc.now c.in-Some-Exchange.at _ (faithful-each c.args.doc.now c.requires.faithful) c.line.ensures

pub assign_same-requires-clause-new : goal.assign_same-requires-clause-new
assign_same-requires-clause-new g c =
    exchanged-classed c.args.doc.now c.args.patch.now c.in-Some-Exchange.at (line_view c.in-Some-Exchange.line) (c.in-Some-Exchange.ensures.only ∙ ap (λ s. move_of s ∷ []) c.in-Some-Exchange.field-0-is) (faithful-each (after_moves c.args.patch.now c.args.doc.now) c.requires.faithful_after)

pub returns-in-Some-Exchange : goal.returns-in-Some-Exchange
returns-in-Some-Exchange g c =
    exchanged-right c.args.doc.now c.args.patch.now c.in-Some-Exchange.at (line_view c.line.result.now) (line_view c.in-Some-Exchange.line) (c.in-Some-Exchange.ensures.only ∙ ap (λ s. move_of s ∷ []) c.in-Some-Exchange.field-0-is) c.line.ensures (c.assign_same.ensures c.if-assign_same.true)
