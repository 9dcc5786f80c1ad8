use Rattle.std.proofs.Common.{◌≡◌, sym, ap, ◌∙◌, []}
use Rattle.mk_lines.specs.Units.{units}
use Rattle.mk_lines.specs.Lists.{concat}
use Rattle.mk_lines.proofs.on_units.UnitLemmas.{concat-units}
use Rattle.mk_class.proofs.on_assignments.AssignmentsWhole.{assignment-is, assignment-value_replaced}
use Rattle.mk_class.proofs.laws.value_text_is_free.Goals as goal

pub returns : goal.returns
returns c text value a h e k i j =
    let p = assignment-is (λ b. b) (units (λ b. b) text) a h in
    let empty : units (λ b. b) value ≡ [] → a.after ≡ [] = λ z. e (sym (concat-units (λ b. b) value) ∙ ap concat z) in
    assignment-value_replaced (λ b. b) text value a h k (record { begins = i; ends = j; blanks_after = p.are_value.blanks_after; empty = empty })
