use Rattle.std.proofs.Common.{◌≡◌, ◌∙◌, ap, subst, IfOk, List, ℕ}
use Rattle.mk_tree.specs.LocatedLines.{located_text}
use Rattle.mk_tree.proofs.on_documents.DocumentLemmas.{faithful-text}
use Rattle.mk_session.specs.Sessions.{seen_opened}
use Rattle.mk_session.proofs.session.Session.open_vec.Goals as goal

pub returns-clause-opened : goal.returns-clause-opened
returns-clause-opened g c =
    subst (λ (t : List ℕ). IfOk c.over.result (λ s. s ≡ seen_opened c.args.depth t)) (ap located_text c.new.ensures ∙ faithful-text c.in_ok-doc.doc c.args.text.items c.in_ok-doc.ensures.faithful) c.over.ensures.opened
