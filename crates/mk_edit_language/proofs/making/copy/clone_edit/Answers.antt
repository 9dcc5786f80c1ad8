use Rattle.mk_edit_language.proofs.CopiedEdits.{edits-cloned, if_ok}
use Rattle.mk_edit_language.proofs.making.copy.clone_edit.Goals as goal

pub returns : goal.returns
returns g c =
    if_ok _ _ _
    (edits-cloned g.row.A g.A.Allocator g.A.Allocator-dict g.A.Clone g.A.Clone-dict g.A.Destruct-dict c.args.edit.now)
    c.clone.result c.clone.ensures.cases
