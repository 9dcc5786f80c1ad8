use Rattle.std.proofs.Common.{◌≡◌, arith, drop, []}
use Rattle.std.proofs.lemmas.List.{drop_all}
use Rattle.mk_edit.proofs.on_value_changes.WindowsWalked.{windows-at, windows-first, windows-over}
use Rattle.mk_edit.proofs.change_values_survey.change_values_survey.Goals as goal

pub windows-init : goal.windows-init
windows-init g c =
    windows-first (λ p. p.items) _ _ _ _ _ _ c.nothing_found.ensures c.new.ensures.items c.size-size.ensures.few c.size-size.ensures.some_bytes (c.iter-lines.ensures.admitted c.requires.faithful) c.requires.windows

pub surveyed-survey-requires : goal.surveyed-survey-requires
surveyed-survey-requires g c =
    let W = windows-at (λ p. p.items) _ _ _ _ _ c.args.windows.now c.windows.window-index c.window-item.result c.windows-test.true c.window-item.is c.windows.invariant in
    record { faithful = c.requires.faithful; in_range = W.in_range; admitted = W.admitted; surveyed = W.surveyed }

pub windows-preserved : goal.windows-preserved
windows-preserved g c =
    (windows-at (λ p. p.items) _ _ _ _ _ c.args.windows.now c.windows.window-index c.window-item.result c.windows-test.true c.window-item.is c.windows.invariant).next _ _ c.surveyed-survey.ensures

pub returns : goal.returns
returns g c =
    let none : drop c.windows.window-index c.args.windows.now ≡ [] = drop_all c.windows.window-index c.args.windows.now (omega (arith, c.windows-test.false)) in
    let W = windows-over (λ p. p.items) _ _ _ _ _ _ none c.windows.invariant in
    record { findings = W.findings_are; few = W.few; places = W.places_are }
