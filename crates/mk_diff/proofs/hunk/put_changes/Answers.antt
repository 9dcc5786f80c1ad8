use Rattle.std.proofs.Common.{◌≡◌, ◌+◌, ◌++◌, ◌∷◌, [], List, ℕ, suc, drop, get_or, arith, ◌∙◌, sym, ap, subst}
use Rattle.std.proofs.lemmas.List.{drop_more, drop_all}
use Rattle.std.proofs.lemmas.Result.{IfOk-weaker}
use Rattle.mk_diff.specs.HunkTexts.{signed_lines}
use Rattle.mk_diff.specs.Stretches.{Leads, between, lines_text, shown}
use Rattle.mk_diff.specs.declared.stretch.Stretch.{Stretch}
use Rattle.mk_diff.proofs.HunkTextLemmas.{lines_text-more}
use Rattle.mk_diff.proofs.ShownLemmas.{shown-between}
use Rattle.mk_diff.proofs.hunk.put_changes.Goals as goal

pub loop-change-preserved : goal.loop-change-preserved
loop-change-preserved g c =
    let old = c.args.old.now in
    let new = c.args.new.now in
    let changed = c.args.changed.now in
    let i = c.loop-change.change-index in
    let at = c.loop-change.at in
    let end = c.args.whole.old_end in
    let s : Stretch = get_or changed i (record { old_start = 0; old_end = 0; new_start = 0; new_end = 0 }) in
    let rest : List Stretch = drop (i + 1) changed in
    let more : drop i changed ≡ s ∷ rest = drop_more changed i _ c.loop-change-test.true in
    let (floor, j, leads, text) = c.loop-change.invariant in
    let here : Leads (shown old) (shown new) floor at j (s ∷ rest) c.args.whole.old_end c.args.whole.new_end =
    subst (λ (ss : List Stretch). Leads (shown old) (shown new) floor at j ss c.args.whole.old_end c.args.whole.new_end) more leads in
    let before : List ℕ = c.loop-change.text.items in
    let above = shown-between at s.old_start old in
    let removed = shown-between s.old_start s.old_end old in
    let added = shown-between s.new_start s.new_end new in
    let first = c.in_ok-put_lines.ensures.bytes in
    let second = c.in_ok-put_lines-2.ensures.bytes in
    let third = c.in_ok-put_lines-3.ensures.bytes in
    let is : ((before ++ signed_lines 32 (between at s.old_start (shown old))) ++ signed_lines 45 (between s.old_start s.old_end (shown old))) ++ signed_lines 43 (between s.new_start s.new_end (shown new))
    ≡ c.put_lines-in-loop-change-2.new.text.items = cc in (
      suc s.old_end,
      s.new_end,
      here.2,
      lines_text-more (shown old) (shown new) before _ at s rest end is
          ∙ ap (λ (ss : List Stretch). before ++ lines_text (shown old) (shown new) at ss end) (sym more) ∙ text,
    )

pub returns-clause-bytes : goal.returns-clause-bytes
returns-clause-bytes g c =
    let old = c.args.old.now in
    let new = c.args.new.now in
    let changed = c.args.changed.now in
    let at = c.loop-change.at in
    let end = c.args.whole.old_end in
    let (floor, j, leads, text) = c.loop-change.invariant in
    let none : drop c.loop-change.change-index changed ≡ [] = drop_all c.loop-change.change-index changed (omega arith) in
    let done = ap (λ (ss : List Stretch). c.loop-change.text.items ++ lines_text (shown old) (shown new) at ss end) (sym none) ∙ text in
    let last = shown-between at end old in
    IfOk-weaker c.put_lines-2.result _ _ (λ _ bytes. bytes ∙ ap (λ ls. c.loop-change.text.items ++ signed_lines 32 ls) last ∙ done) c.put_lines-2.ensures.bytes
