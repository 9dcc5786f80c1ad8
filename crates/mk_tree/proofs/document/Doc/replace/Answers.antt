use Rattle.mk_tree.proofs.Changes.{fit-replace_steps}
use Rattle.mk_tree.proofs.document.Doc.replace.Goals as goal

pub into_doc-requires : goal.into_doc-requires
into_doc-requires g c =
    let d = c.take_draft-draft.ensures in
    fit-replace_steps _ c.args.self.now c.take_draft-draft.result _ c.args.at d.lines c.requires.old_plain c.requires.plain d.conditionals c.replace-old.ensures.lines
