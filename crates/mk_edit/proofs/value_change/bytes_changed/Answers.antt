use Rattle.std.proofs.Common.{◌∙◌, refl, sym, ap, subst}
use Rattle.mk_lines.specs.Cells.{joined_byte}
use Rattle.mk_class.specs.Contexts.{Context}
use Rattle.mk_class.specs.LocatedClasses.{located_class}
use Rattle.mk_tree.specs.LocatedLines.{LocatedLine}
use Rattle.mk_tree.specs.Trees.{line_view}
use Rattle.mk_edit_language.specs.Edits.{ValueChange, Append, Add, Remove}
use Rattle.mk_edit_parts.specs.LocatedParts.{IsClassed}
use Rattle.mk_edit.specs.ValueChangeLines.{IsOwnLine, bytes_changed, change_view}
use Rattle.mk_edit.specs.declared.value_change.Change.{Change}
use Rattle.mk_edit.proofs.on_value_changes.ChangedBytes.{mapped, own-has, own-set, put-bytes, put-within, remove-changed}
use Rattle.mk_edit.proofs.value_change.bytes_changed.Goals as goal

-- the line has the class that it has in its context
classed : (c : ValueChange) (x : Context) (l : LocatedLine) → IsOwnLine c x l → IsClassed l
classed c x l O = record { context = x; class_is = O.class_is ∙ ap (located_class joined_byte) (sym O.here) }

pub with_value-requires : goal.with_value-requires
with_value-requires g c = subst (λ (z : Change). IsOwnLine (change_view z) c.args.place.now.context (line_view c.args.line.now)) c.in-Set.is c.requires

pub with_value-requires-in-SetIf : goal.with_value-requires-in-SetIf
with_value-requires-in-SetIf g c = own-set _ _ _ _ (subst (λ (z : Change). IsOwnLine (change_view z) c.args.place.now.context (line_view c.args.line.now)) c.in-SetIf.is c.requires)

pub with_text_after-requires : goal.with_text_after-requires
with_text_after-requires g c = record { classed = classed _ _ _ c.requires; within = put-within _ _ _ c.requires }

pub with_text_after-requires-in-Add : goal.with_text_after-requires-in-Add
with_text_after-requires-in-Add g c = record { classed = classed _ _ _ c.requires; within = put-within _ _ _ c.requires }

pub returns-in-Append : goal.returns-in-Append
returns-in-Append g c =
    let x = c.args.place.now.context in
    let l = line_view c.args.line.now in
    let v = c.in-Append.text.now in
    let O : IsOwnLine (Append v) x l = subst (λ (z : Change). IsOwnLine (change_view z) x l) c.in-Append.is c.requires in
    mapped _ _ c.with_text_after.result
    (λ bytes e. e ∙ (sym (put-bytes (Append v) x l v (λ a. refl) O) ∙ ap (λ (z : Change). bytes_changed (change_view z) x l) (sym c.in-Append.is)))
    c.with_text_after.ensures

pub returns-in-Add : goal.returns-in-Add
returns-in-Add g c =
    let x = c.args.place.now.context in
    let l = line_view c.args.line.now in
    let w = c.in-Add.word.now in
    let O : IsOwnLine (Add w) x l = subst (λ (z : Change). IsOwnLine (change_view z) x l) c.in-Add.is c.requires in
    mapped _ _ c.with_text_after-in-Add.result
    (λ bytes e. e ∙ (sym (put-bytes (Add w) x l w (λ a. refl) O) ∙ ap (λ (z : Change). bytes_changed (change_view z) x l) (sym c.in-Add.is)))
    c.with_text_after-in-Add.ensures

pub without_word-requires : goal.without_word-requires
without_word-requires g c = own-has _ _ _ _ c.requires c.assignment_of.ensures

pub returns-in-Remove : goal.returns-in-Remove
returns-in-Remove g c =
    let x = c.args.place.now.context in
    let l = line_view c.args.line.now in
    let w = c.in-Remove.word.now in
    let O : IsOwnLine (Remove w) x l = subst (λ (z : Change). IsOwnLine (change_view z) x l) c.in-Remove.is c.requires in
    mapped _ _ c.without_word.result
    (λ bytes e. remove-changed x l w bytes.items c.assignment_of.result O c.assignment_of.ensures e ∙ ap (λ (z : Change). bytes_changed (change_view z) x l) (sym c.in-Remove.is))
    c.without_word.ensures
