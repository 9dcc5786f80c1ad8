use Rattle.std.proofs.Common.{◌∙◌, sym, subst, List, ℕ, Some}
use Rattle.std.proofs.lemmas.Slice.Eq.{bytes_eq-Decides}
use Rattle.mk_class.specs.ClassedLines.{classed_lines}
use Rattle.mk_tree.specs.LocatedLines.{located_text}
use Rattle.mk_edit_language.specs.Addresses.{Variable}
use Rattle.mk_edit_parts.specs.Seeking.{IsSought}
use Rattle.mk_index.specs.Effects.{AreNamedIn, NamedLines}
use Rattle.mk_index.proofs.numbered.Numbered.sought.Goals as goal

pub returns : goal.returns
returns g c = λ ls f h.
    let inside = subst (λ (n : NamedLines). AreNamedIn ls n) (sym c.self.view_is) h in
    let same = (bytes_eq-Decides c.args.name.now c.deref.result.now).0 (sym c.is_same_text.ensures ∙ c.if-not-is_same_text.false) in
    let name = sym (same ∙ c.deref.ensures.value) in
    subst (λ (n : List ℕ). IsSought (classed_lines (located_text ls)) (Some (Variable (Some c.args.number) n)) c.sought.result) name (c.sought.ensures c.self.inside.name.items ls f inside)
