use Rattle.std.proofs.Common.{subst, sym, Option}
use Rattle.std.specs.Prelude.{IfSome}
use Rattle.mk_tree.specs.UnreadPrefixes.{IsEndOf}
use Rattle.mk_tree.specs.declared.end.DocEnd.{DocEnd}
use Rattle.mk_patch.specs.Moves.{after_moves}
use Rattle.mk_index.specs.Effects.{Known}
use Rattle.mk_index.proofs.on_effects.KeptLemmas.{kept-known}
use Rattle.mk_index.proofs.finder.Finder.follow_planned.Goals as goal

pub returns-in-Ok-true : goal.returns-in-Ok-true
returns-in-Ok-true g c =
    let before = c.args.doc.now in
    let after = after_moves c.args.patch.now before in
    let end = subst (λ (k : Known). IfSome k.end (IsEndOf before)) (sym c.self.view_is) c.requires.right.end_is in
    kept-known before after c.in-Ok-true.field-0 c.keep.new.self c.take-end.result c.in-Ok-true.field-0-test c.in-Ok-true.ensures (subst (λ (o : Option DocEnd). IfSome o (IsEndOf before)) (sym c.take-end.ensures.value) end)
