use Rattle.std.proofs.Common.{◌∙◌, ap, subst, sym}
use Rattle.std.specs.Prelude.{IfSome}
use Rattle.mk_class.specs.Contexts.{Admits, context_after_located}
use Rattle.mk_class.specs.declared.class.Class.{Class}
use Rattle.mk_tree.specs.Trees.{line_view}
use Rattle.mk_index.specs.Effects.{Known}
use Rattle.mk_index.specs.Indexes.{IsIndexOf}
use Rattle.mk_index.proofs.on_effects.EndLemmas.{appended}
use Rattle.mk_index.proofs.finder.Finder.append.Goals as goal

pub sets_prefix_unread-is_unread-requires-clause-classed : goal.sets_prefix_unread-is_unread-requires-clause-classed
sets_prefix_unread-is_unread-requires-clause-classed g c = let l = appended c.args.doc.now c.args.end (line_view c.line-last.result.now) c.len.result c.requires.faithful c.requires.behind (c.iter-lines.ensures.admitted c.requires.faithful) c.len.ensures.number c.line-last.ensures in l.classed

pub step-requires : goal.step-requires
step-requires g c = let l = appended c.args.doc.now c.args.end (line_view c.line-last.result.now) c.len.result c.requires.faithful c.requires.behind (c.iter-lines.ensures.admitted c.requires.faithful) c.len.ensures.number c.line-last.ensures in subst (λ (k : Class). Admits c.args.end.context k) (sym c.class-class.ensures) l.admitted

pub returns : goal.returns
returns g c =
    let l = appended c.args.doc.now c.args.end (line_view c.line-last.result.now) c.len.result c.requires.faithful c.requires.behind (c.iter-lines.ensures.admitted c.requires.faithful) c.len.ensures.number c.line-last.ensures in
    record {
      index_is = subst (λ (k : Known). IfSome k.index (IsIndexOf c.args.doc.now)) (sym c.self.view_is) c.requires.right.index_is;
      end_is = l.end_is c.step.result c.sets_prefix_unread-is_unread.result (c.step.ensures.located ∙ ap (λ (k : Class). context_after_located c.args.end.context k) c.class-class.ensures) c.sets_prefix_unread-is_unread.ensures;
    }
