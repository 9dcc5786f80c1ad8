use Rattle.mk_edit_language.proofs.EqualEdits.{edits-decide}
use Rattle.mk_edit_language.proofs.making.copy.is_same_edit.Goals as goal

pub returns : goal.returns
returns g c =
    rw c.eq.ensures
    (edits-decide g.row.A g.A.Allocator g.A.Allocator-dict g.A.Destruct-dict c.args.edit.now c.args.other.now)
