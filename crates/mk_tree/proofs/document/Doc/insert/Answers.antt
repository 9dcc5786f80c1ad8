use Rattle.mk_tree.proofs.Changes.{fit-insert_steps}
use Rattle.mk_tree.proofs.document.Doc.insert.Goals as goal

pub into_doc-requires : goal.into_doc-requires
into_doc-requires g c =
    let d = c.take_draft-draft.ensures in
    fit-insert_steps _ c.args.self.now c.take_draft-draft.result _ c.args.at d.lines c.requires.plain d.conditionals c.insert.ensures.lines
