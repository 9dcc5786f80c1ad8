use Rattle.std.proofs.Common.{◌≡◌, ◌∙◌, sym, ap, subst, Some, Option, ℕ}
use Rattle.mk_class.specs.ClassedLines.{classed_lines}
use Rattle.mk_tree.specs.LocatedLines.{located_text}
use Rattle.mk_edit_language.specs.Addresses.{Variable}
use Rattle.mk_edit_language.specs.Spots.{nth_of}
use Rattle.mk_edit_parts.specs.Candidates.{seen_for}
use Rattle.mk_edit_parts.specs.Seeking.{IsSought}
use Rattle.mk_edit_parts.specs.declared.seek.Found.{Found}
use Rattle.mk_edit_parts.specs.declared.seek.Sought.{Sought}
use Rattle.mk_edit_parts.proofs.on_finding.CandidateLemmas.{candidate-sought}
use Rattle.mk_edit_parts.proofs.candidates.Candidates.sought.Goals as goal

pub returns : goal.returns
returns g c = λ n ls f h.
    let places = c.self.inside.places.items in
    let unread = c.self.inside.has_unread_prefix in
    let end = c.self.inside.end in
    let seen : seen_for c.args.number c.args.self.now ≡ record { count = c.len.result; found = c.nth_of.result; has_unread_prefix = unread; end = end } =
    ap (seen_for c.args.number) (sym c.self.view_is)
    ∙ (ap (λ (k : ℕ). record { count = k; found = nth_of c.args.number places; has_unread_prefix = unread; end = end }) (sym (c.len.ensures ∙ c.self.inside.places.ok.0))
    ∙ ap (λ (o : Option Found). record { count = c.len.result; found = o; has_unread_prefix = unread; end = end }) (sym (c.nth_of.ensures ∙ ap (nth_of c.args.number) c.deref.ensures.value))) in
    subst (λ (s : Sought). IsSought (classed_lines (located_text ls)) (Some (Variable (Some c.args.number) n)) s) seen (candidate-sought n ls c.args.self.now c.args.number f h)
