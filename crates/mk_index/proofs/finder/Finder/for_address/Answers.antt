use Rattle.std.proofs.Common.{◌∙◌, subst, sym, Option}
use Rattle.std.specs.Prelude.{IfSome}
use Rattle.mk_tree.specs.UnreadPrefixes.{IsEndOf}
use Rattle.mk_index.specs.Effects.{Known}
use Rattle.mk_index.specs.Indexes.{IsFreshIndexOf, IsIndexOf, Stored}
use Rattle.mk_index.proofs.on_effects.KeptLemmas.{value-ok}
use Rattle.mk_index.proofs.finder.Finder.for_address.Goals as goal
use Rattle.mk_index.proofs.finder.Finder.for_address.Goals.{then-is_some, else-is_some+else-not-is_worn}

pub returns-clause-right : goal.returns-clause-right
returns-clause-right g c =
    let doc = c.args.doc.now in
    let end = subst (λ (k : Known). IfSome k.end (IsEndOf doc)) (sym c.self.view_is) c.requires.right.end_is in
    let fresh : IsFreshIndexOf doc c.refresh.new.self = value-ok (IsFreshIndexOf doc c.refresh.new.self) c.refresh.result c.in_ok-ok.field-0 c.refresh.ensures (sym c.ok.ensures.value ∙ c.in_ok-ok.was) in
    elim c.if-is_some.branch [
      | then-is_some w ↦ rw w.self-is (record {
        index_is = subst (λ (i : Stored). IsIndexOf doc i) (sym c.for_address-windows.ensures.same) fresh.index_is;
        end_is = end;
      })
      | else-is_some+else-not-is_worn w ↦ rw w.self-is (record {
        index_is = subst (λ (o : Option Stored). IfSome o (IsIndexOf doc)) (sym c.take.ensures.after) tt;
        end_is = end;
      })
    ]
