use Rattle.std.proofs.Common.{◌≡◌, arith, drop, []}
use Rattle.std.proofs.lemmas.List.{drop_all}
use Rattle.mk_edit.proofs.on_renaming.SizesOfEffects.{effect-bytes}
use Rattle.mk_edit.proofs.on_renaming.WindowsSurveyed.{windows-at, windows-first, windows-over}
use Rattle.mk_edit.proofs.rename_target_effect.rename_target_effect.Goals as goal

pub windows-init : goal.windows-init
windows-init g c = windows-first (λ p. p.items) _ _ _ _ _ _ c.no_effect.ensures c.new.ensures.items (c.iter-lines.ensures.admitted c.requires.faithful) c.requires.windows

pub surveyed-survey-requires : goal.surveyed-survey-requires
surveyed-survey-requires g c =
    let W = windows-at (λ p. p.items) _ _ _ _ _ c.args.windows.now c.windows.window-index c.window-item.result c.windows-test.true c.window-item.is c.requires.faithful c.windows.invariant in
    record { faithful = c.requires.faithful; in_range = W.in_range; admitted = W.admitted; effect = W.surveyed.effect_is; places = W.surveyed.places_are }

pub windows-preserved : goal.windows-preserved
windows-preserved g c =
    (windows-at (λ p. p.items) _ _ _ _ _ c.args.windows.now c.windows.window-index c.window-item.result c.windows-test.true c.window-item.is c.requires.faithful c.windows.invariant).next c.surveyed-survey.result.effect c.surveyed-survey.result.places
    (record { effect_is = c.surveyed-survey.ensures.effect; places_are = c.surveyed-survey.ensures.places })

pub returns : goal.returns
returns g c =
    let none : drop c.windows.window-index c.args.windows.now ≡ [] = drop_all c.windows.window-index c.args.windows.now (omega (arith, c.windows-test.false)) in
    let W = windows-over (λ p. p.items) _ _ _ _ _ _ none c.windows.invariant in
    record { effect = W.effect_is; few_bytes = effect-bytes _ _ _ c.args.doc.now W.effect_is c.requires.faithful c.size-size.ensures.few; places = W.places_are }
