use Rattle.mk_edit_language.proofs.CopiedEdits.{places-cloned, if_ok}
use Rattle.mk_edit_language.proofs.making.copy.clone_place.Goals as goal

pub returns : goal.returns
returns g c =
    if_ok _ _ _
    (places-cloned g.row.A g.A.Allocator g.A.Allocator-dict g.A.Clone g.A.Clone-dict g.A.Destruct-dict c.args.place.now)
    c.clone.result c.clone.ensures.cases
