use Rattle.std.proofs.Common.{subst, sym}
use Rattle.std.specs.Prelude.{IfSome}
use Rattle.mk_tree.specs.UnreadPrefixes.{IsEndOf}
use Rattle.mk_tree.specs.declared.end.DocEnd.{DocEnd}
use Rattle.mk_index.specs.Effects.{Known}
use Rattle.mk_index.specs.Indexes.{IsIndexOf}
use Rattle.mk_index.proofs.on_effects.EndLemmas.{sought-end}
use Rattle.mk_index.proofs.finder.Finder.find_end.Goals as goal

pub returns-then-is_none : goal.returns-then-is_none
returns-then-is_none g c = record {
  index_is = subst (λ (k : Known). IfSome k.index (IsIndexOf c.args.doc.now)) (sym c.self-then-is_none.view_is) c.walk_to_end-sought.ensures.right.index_is;
  end_is = subst (λ (e : DocEnd). IsEndOf c.args.doc.now e) (sym c.end_of.ensures) (sought-end c.args.doc.now c.walk_to_end-sought.result c.requires.faithful c.walk_to_end-sought.ensures.sought);
}
