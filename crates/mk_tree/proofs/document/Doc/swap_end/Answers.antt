use Rattle.mk_tree.proofs.Ends.{fit-with_last_steps}
use Rattle.mk_tree.proofs.document.Doc.swap_end.Goals as goal

pub into_doc-requires : goal.into_doc-requires
into_doc-requires g c =
    let d = c.take_draft-draft.ensures in
    fit-with_last_steps _ c.args.self.now c.take_draft-draft.result _ d.lines d.conditionals c.swap_end-old.ensures.lines
