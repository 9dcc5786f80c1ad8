use Rattle.mk_edit_language.proofs.EqualEdits.{places-decide}
use Rattle.mk_edit_language.proofs.making.copy.is_same_place.Goals as goal

pub returns : goal.returns
returns g c =
    rw c.eq.ensures
    (places-decide g.row.A g.A.Allocator g.A.Allocator-dict g.A.Destruct-dict c.args.place.now c.args.other.now)
