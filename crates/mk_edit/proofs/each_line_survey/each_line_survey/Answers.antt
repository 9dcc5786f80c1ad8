use Rattle.std.proofs.Common.{◌≡◌, refl, ap, arith, drop, []}
use Rattle.std.proofs.lemmas.List.{drop_all}
use Rattle.mk_edit.proofs.on_each_lines.EachWindows.{windows-at, windows-first, windows-over}
use Rattle.mk_edit.proofs.each_line_survey.each_line_survey.Goals.{then-survey, else-survey}
use Rattle.mk_edit.proofs.each_line_survey.each_line_survey.Goals as goal

pub windows-init : goal.windows-init
windows-init g c =
    windows-first (λ n. n.items) _ _ _ _ _ _ (ap (λ x. record { at = 0; context = x }) c.start.ensures) c.nothing_found.ensures c.new.ensures.items c.size-size.ensures.few (c.iter-lines.ensures.admitted c.requires.faithful) c.requires.windows

pub surveyed-survey-requires : goal.surveyed-survey-requires
surveyed-survey-requires g c =
    let W = windows-at (λ n. n.items) _ _ _ _ _ c.args.windows.now c.windows.window-index c.window-item.result c.windows-test.true c.window-item.is c.windows.invariant in
    record { faithful = c.requires.faithful; change = c.requires.change; lines = c.requires.lines; ahead = W.lower; in_range = omega (arith, W.in_range); admitted = W.admitted; surveyed = W.surveyed }

pub overflow_add-end : goal.overflow_add-end
overflow_add-end g c =
    let W = windows-at (λ n. n.items) _ _ _ _ _ c.args.windows.now c.windows.window-index c.window-item.result c.windows-test.true c.window-item.is c.windows.invariant in
    omega (arith, W.in_range, c.size-size.ensures.few, c.size-size.ensures.some_bytes)

pub surveyed-survey-requires-in-windows : goal.surveyed-survey-requires-in-windows
surveyed-survey-requires-in-windows g c =
    let W = windows-at (λ n. n.items) _ _ _ _ _ c.args.windows.now c.windows.window-index c.window-item.result c.windows-test.true c.window-item.is c.windows.invariant in
    record {
      faithful = c.requires.faithful;
      change = c.requires.change;
      lines = c.requires.lines;
      ahead = omega arith;
      in_range = W.in_range;
      admitted = W.admitted_in;
      surveyed = elim c.if-survey.branch [
        | then-survey w ↦
            let S = w.surveyed-survey in
            rw w.survey-is (W.crossed S.result.place S.result.findings S.result.notes S.ensures.lower S.ensures.upper S.ensures.over S.ensures.surveyed)
        | else-survey w ↦ rw w.survey-is (W.passed w.if-survey.false)
      ];
    }

pub windows-preserved : goal.windows-preserved
windows-preserved g c =
    let W = windows-at (λ n. n.items) _ _ _ _ _ c.args.windows.now c.windows.window-index c.window-item.result c.windows-test.true c.window-item.is c.windows.invariant in
    let S = c.surveyed-survey-in-windows in
    W.next S.result.place S.result.findings S.result.notes (S.ensures.over refl) S.ensures.surveyed

pub returns : goal.returns
returns g c =
    let none : drop c.windows.window-index c.args.windows.now ≡ [] = drop_all c.windows.window-index c.args.windows.now (omega (arith, c.windows-test.false)) in
    let W = windows-over (λ n. n.items) _ _ _ _ _ _ none c.windows.invariant in
    record { findings = W.findings_are; few = W.few; notes = W.notes_are }
