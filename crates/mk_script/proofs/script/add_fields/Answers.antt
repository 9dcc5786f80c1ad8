use Rattle.std.proofs.Common.{◌++◌, ◌∷◌, [], refl, map, ap, sym, ◌∙◌, subst}
use Rattle.std.specs.Prelude.{option_map}
use Rattle.mk_edit_language.specs.EditViews.{edit_of}
use Rattle.mk_edit_language.specs.CommandViews.{command_of}
use Rattle.mk_script.specs.Lines.{Plain, Try}
use Rattle.mk_script.specs.Scripts.{Alone, Tried, step_of}
use Rattle.mk_script.specs.SeenFields.{field_texts}
use Rattle.mk_script.specs.CommandReading.{edit_in, command_after, saying_after}
use Rattle.mk_script.specs.ReaderAnswers.{Adds}
use Rattle.mk_script.proofs.on_scripts.AddLemmas.{step-more, added, not-read, handed-on, said-by, said-plain}
use Rattle.mk_script.proofs.script.add_fields.Goals as goal

pub returns-in_err-edit-in-Try : goal.returns-in_err-edit-in-Try
returns-in_err-edit-in-Try g c =
    let steps = map step_of c.args.steps.now.items in
    let n = c.args.number in
    let rest = field_texts c.in_ok-word.rest.now in
    handed-on steps n _ steps _ _ c.from_residual-in_err-edit-in-Try.ensures.1
    (not-read (edit_in rest) Try steps n _ steps _ (said-by (field_texts c.args.fields.now) rest _ c.in_ok-word.ensures ∙ ap (λ w. saying_after w rest) c.in-Try.is)
    c.in_err-edit-in-Try.ensures (λ e. (steps ++ Tried (record { line = n; edit = e }) ∷ [], step-more steps (Tried (record { line = n; edit = e })) _ refl)))

pub returns-in_ok-edit-in-Try : goal.returns-in_ok-edit-in-Try
returns-in_ok-edit-in-Try g c =
    let steps = map step_of c.args.steps.now.items in
    let n = c.args.number in
    let e = edit_of c.in_ok-edit-in-Try.edit in
    let rest = field_texts c.in_ok-word.rest.now in
    added step_of steps c.args.steps.now.items c.push.new.values.items _ n _ (Try e) c.push.result
    (said-by (field_texts c.args.fields.now) rest _ c.in_ok-word.ensures ∙ (ap (λ w. saying_after w rest) c.in-Try.is ∙ ap (λ o. option_map Try o) c.in_ok-edit-in-Try.ensures))
    (step-more steps (Tried (record { line = n; edit = e })) _ refl) c.push.ensures

pub returns-in-Or : goal.returns-in-Or
returns-in-Or g c =
    let rest = field_texts c.in_ok-word.rest.now in
    subst (λ o. Adds (map step_of c.args.steps.now.items) c.args.number o (map step_of c.add_alternative.new.steps.items) c.add_alternative.result)
    (sym (said-by (field_texts c.args.fields.now) rest _ c.in_ok-word.ensures ∙ ap (λ w. saying_after w rest) c.in-Or.is)) c.add_alternative.ensures

pub returns-in_err-command-in_default : goal.returns-in_err-command-in_default
returns-in_err-command-in_default g c =
    let steps = map step_of c.args.steps.now.items in
    let n = c.args.number in
    let word = c.in_ok-word.word in
    let rest = field_texts c.in_ok-word.rest.now in
    handed-on steps n _ steps _ _ c.from_residual-in_err-command-in_default.ensures.1
    (not-read (command_after word rest) Plain steps n _ steps _ (said-by (field_texts c.args.fields.now) rest word c.in_ok-word.ensures ∙ said-plain word rest c.in_default.not-Try c.in_default.not-Or)
    c.in_err-command-in_default.ensures (λ d. (steps ++ Alone (record { line = n; command = d }) ∷ [], step-more steps (Alone (record { line = n; command = d })) _ refl)))

pub returns-in_ok-command-in_default : goal.returns-in_ok-command-in_default
returns-in_ok-command-in_default g c =
    let steps = map step_of c.args.steps.now.items in
    let n = c.args.number in
    let d = command_of c.in_ok-command-in_default.command in
    let word = c.in_ok-word.word in
    let rest = field_texts c.in_ok-word.rest.now in
    added step_of steps c.args.steps.now.items c.push-in_default.new.values.items _ n _ (Plain d) c.push-in_default.result
    (said-by (field_texts c.args.fields.now) rest word c.in_ok-word.ensures
    ∙ (said-plain word rest c.in_default.not-Try c.in_default.not-Or ∙ ap (λ o. option_map Plain o) c.in_ok-command-in_default.ensures))
    (step-more steps (Alone (record { line = n; command = d })) _ refl) c.push-in_default.ensures
