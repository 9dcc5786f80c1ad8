use Rattle.std.proofs.Common.{◌≤◌, ◌+◌, refl, sym, ap, subst, length}
use Rattle.mk_class.specs.Contexts.{Context}
use Rattle.mk_edit_parts.specs.Candidates.{Listed}
use Rattle.mk_edit_parts.proofs.on_finding.CandidateLemmas.{listed-more, seen-more}
use Rattle.mk_edit_parts.proofs.candidates.Candidates.note.Goals as goal

pub returns-clause-seen : goal.returns-clause-seen
returns-clause-seen g c = rw (sym c.self.view_is) (λ w.
    seen-more w _ _ c.args.is_meant c.args.is_unread c.args.class.now c.in_ok-push_if.ensures refl
    (ap (λ (k : Context). record { at = c.self.inside.end.at + 1; context = k }) c.step.ensures.located))

pub returns-clause-no_more : goal.returns-clause-no_more
returns-clause-no_more g c = listed-more _ _ c.self.inside.end _ c.args.is_meant c.in_ok-push_if.ensures refl (subst (λ (k : Listed). length k.places ≤ k.end.at) (sym c.self.view_is) c.requires.no_more)
