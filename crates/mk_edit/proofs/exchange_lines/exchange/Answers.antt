use Rattle.std.proofs.Common.{◌≡◌, ◌∙◌, ◌++◌, ◌+◌, ap, drop, sym, arith, refl, length, inl, inr}
use Rattle.mk_lines.specs.LogicalLines.{has_no_line_end, logical_lines}
use Rattle.mk_tree.specs.LocatedLines.{located_text}
use Rattle.mk_edit_language.specs.Causes.{where_holds}
use Rattle.mk_edit_language.specs.EditViews.{site_of}
use Rattle.mk_edit_language.specs.LineExchanges.{block_text}
use Rattle.mk_edit_language.specs.declared.refusal.Refusal.TheVariants.{NoMemory, OpenLine, OpenDefine, TooLong, Misread, Leans}
use Rattle.mk_edit_parts.specs.LineRunsFound.{block_seen}
use Rattle.mk_patch.specs.Moves.{MovesWithRoom}
use Rattle.mk_edit.specs.ExchangePlans.{lines_in, putting_moves, window_stretch}
use Rattle.mk_edit.proofs.on_exchanges.ExchangeAnswers.{all-clear, cleared, leans-same, made, new-refused, number-read, refused-read, room-put, room-taken, text-there}
use Rattle.mk_edit.proofs.on_exchanges.ExchangeCauses.{AreLeft, IsClear, clear-unrefused, leans-refused, leans-told, lines-left, lines-there, long-told, misread-refused, misread-told, open_define-cause, open_define-refused, open_line-cause, open_line-refused, too_long-refused}
use Rattle.mk_edit.proofs.on_exchanges.ExchangePlans.{room-there}
use Rattle.mk_edit.proofs.on_exchanges.LineEndsFor.{each-some}
use Rattle.mk_edit.proofs.on_line_changes.ChangeLinePlans.{handed-on}
use Rattle.mk_edit.proofs.on_plans.PlanLemmas.{refused-first}
use Rattle.mk_edit.proofs.exchange_lines.exchange.Given.{Over}
use Rattle.mk_edit.proofs.exchange_lines.exchange.Goals.{Else-follows_open_line, Else-is_in_define, Else-is_too_long, Else-is_misread, In_ok-new, In-Ok}
use Rattle.mk_edit.proofs.exchange_lines.exchange.Goals as goal

-- the causes that the lines around the site decide do not hold
clear : (g : Over) (c : Else-is_too_long g) → IsClear (site_of c.args.site.now) (block_seen c.args.block) c.args.doc.now c.args.window c.requires.faithful c.requires.sited
clear g c =
    all-clear _ _ _ _ c.requires.faithful c.requires.sited _ _ _ _ _ c.follows_open_line.ensures c.if-follows_open_line.false c.is_in_define.ensures c.if-is_in_define.false
    c.going_lines-old.ensures.bytes c.ends_for-ends.ensures c.is_too_long.ensures c.if-is_too_long.false

-- the text that is read is that of the new lines
text : (g : Over) (c : In_ok-new g) → c.deref-2.result.now ≡ block_text (located_text c.args.doc.now) (block_seen c.args.block) c.requires.sited.stretch
text g c = c.deref-2.ensures.value ∙ (c.in-Ok.ensures ∙ text-there _ _ _ _ c.requires.faithful c.requires.sited _ c.ends_for-ends.ensures)

left : (g : Over) (c : In_ok-new g) → AreLeft (located_text c.args.doc.now) (block_seen c.args.block) c.requires.sited.stretch c.going_lines-old.result.end c.in_ok-new.new
left g c = lines-left _ _ _ _ c.requires.faithful c.requires.sited _ _ _ _ _ (text g c) c.going_lines-old.ensures.end c.in_ok-new.ensures.read

pub returns-then-follows_open_line : goal.returns-then-follows_open_line
returns-then-follows_open_line g c =
    refused-first _ _ _ OpenLine
    (inl (open_line-refused _ _ _ _ c.requires.faithful c.requires.sited (open_line-cause _ _ _ _ c.requires.faithful c.requires.sited _ c.follows_open_line.ensures ∙ ap (λ z. where_holds z OpenLine) c.if-follows_open_line.true)))

pub returns-then-is_in_define : goal.returns-then-is_in_define
returns-then-is_in_define g c =
    refused-first _ _ _ OpenDefine
    (inl (open_define-refused _ _ _ _ c.requires.faithful c.requires.sited
    (open_line-cause _ _ _ _ c.requires.faithful c.requires.sited _ c.follows_open_line.ensures ∙ ap (λ z. where_holds z OpenLine) c.if-follows_open_line.false)
    (open_define-cause _ _ _ _ c.requires.faithful c.requires.sited _ c.is_in_define.ensures ∙ ap (λ z. where_holds z OpenDefine) c.if-is_in_define.true)))

pub is_too_long-requires-clause-ends : goal.is_too_long-requires-clause-ends
is_too_long-requires-clause-ends g c = ap (λ z. has_no_line_end z.each) c.ends_for-ends.ensures ∙ each-some (located_text c.args.doc.now) (block_seen c.args.block) (window_stretch c.args.doc.now c.args.window)

pub new_text-requires : goal.new_text-requires
new_text-requires g c = ap (λ z. has_no_line_end z.each) c.ends_for-ends.ensures ∙ each-some (located_text c.args.doc.now) (block_seen c.args.block) (window_stretch c.args.doc.now c.args.window)

pub returns-then-is_too_long : goal.returns-then-is_too_long
returns-then-is_too_long g c =
    refused-first _ _ _ TooLong
    (inl (too_long-refused _ _ _ _ c.requires.faithful c.requires.sited
    (open_line-cause _ _ _ _ c.requires.faithful c.requires.sited _ c.follows_open_line.ensures ∙ ap (λ z. where_holds z OpenLine) c.if-follows_open_line.false)
    (open_define-cause _ _ _ _ c.requires.faithful c.requires.sited _ c.is_in_define.ensures ∙ ap (λ z. where_holds z OpenDefine) c.if-is_in_define.false)
    (long-told _ _ _ _ _ _ _ c.requires.faithful c.requires.sited c.going_lines-old.ensures.bytes c.ends_for-ends.ensures c.is_too_long.ensures ∙ ap (λ z. where_holds z TooLong) c.if-is_too_long.true)))

pub returns-in_default : goal.returns-in_default
returns-in_default g c = refused-first _ _ _ NoMemory (inr (refl, clear-unrefused _ _ _ _ c.requires.faithful c.requires.sited (clear g (goal.at.returns-in_default g c).Else-is_too_long)))

pub returns-in_err-patch : goal.returns-in_err-patch
returns-in_err-patch g c =
    handed-on _ _ _ _ _ _ c.from_residual.ensures.1 (inr (c.in_err-patch.ensures.refused, clear-unrefused _ _ _ _ c.requires.faithful c.requires.sited (clear g (goal.at.returns-in_err-patch g c).Else-is_too_long)))
    (omega arith) (omega arith)

pub take_lines-requires : goal.take_lines-requires
take_lines-requires g c = room-taken _ _ _ _ _ c.in_ok-patch.ensures.moves

pub read_into-requires-clause-fits : goal.read_into-requires-clause-fits
read_into-requires-clause-fits g c =
    omega (
      arith,
      room-there _ _ _ _ _ _ _ c.requires.faithful c.requires.sited c.going_lines-old.ensures.bytes (sym c.is_too_long.ensures ∙ c.if-is_too_long.false),
      ap length (c.deref-2.ensures.value ∙ c.in-Ok.ensures),
    )

pub read_into-requires-clause-room : goal.read_into-requires-clause-room
read_into-requires-clause-room g c =
    let R = room-put _ _ _ _ _ _ _ c.in_ok-patch.ensures.moves c.take_lines.ensures in
    omega (arith, R, c.line_count.ensures.number, ap (λ z. length (logical_lines z)) (c.deref.ensures.value ∙ sym c.deref-2.ensures.value))

pub returns-in_err-new : goal.returns-in_err-new
returns-in_err-new g c =
    let is = c.deref-2.ensures.value ∙ (c.in-Ok.ensures ∙ text-there _ _ _ _ c.requires.faithful c.requires.sited _ c.ends_for-ends.ensures) in
    handed-on _ _ _ _ _ _ c.from_residual-in_err-new.ensures.1
    (new-refused _ _ _ _ c.requires.faithful c.requires.sited _ _ is (clear g (goal.at.returns-in_err-new g c).Else-is_too_long) c.in_err-new.ensures.refused)
    (omega (arith, c.in_err-new.ensures.few_read, number-read _ _ _ _ c.requires.faithful c.requires.sited _ is)) c.in_err-new.ensures.forward

pub returns-then-is_misread : goal.returns-then-is_misread
returns-then-is_misread g c =
    let at = goal.at.returns-then-is_misread g c in
    let L = left g at.In_ok-new in
    refused-read _ _ _ _ c.requires.faithful c.requires.sited Misread _ _ _
    (misread-refused _ _ _ _ c.requires.faithful c.requires.sited (clear g at.Else-is_too_long) (sym (misread-told _ _ _ _ _ L) ∙ (sym c.is_misread.ensures ∙ c.if-is_misread.true)))
    (number-read _ _ _ _ c.requires.faithful c.requires.sited _ (text g at.In_ok-new)) c.in_ok-new.ensures.few_read c.in_ok-new.ensures.forward

pub returns-then-leans : goal.returns-then-leans
returns-then-leans g c =
    let at = goal.at.returns-then-leans g c in
    let L = left g at.In_ok-new in
    let told = leans-same (drop (c.args.window.place.at + c.args.window.count) c.args.doc.now) _ _ _ _ _ _ _ c.flag.ensures c.flag-2.ensures c.prefix.ensures c.leans.ensures in
    refused-read _ _ _ _ c.requires.faithful c.requires.sited Leans _ _ _
    (leans-refused _ _ _ _ c.requires.faithful c.requires.sited (clear g at.Else-is_too_long) (sym (misread-told _ _ _ _ _ L) ∙ (sym c.is_misread.ensures ∙ c.if-is_misread.false))
    (sym (leans-told _ _ _ _ _ _ _ (lines-there _ _ _ _ c.requires.faithful c.requires.sited) L) ∙ (sym told ∙ c.if-leans.true)))
    (number-read _ _ _ _ c.requires.faithful c.requires.sited _ (text g at.In_ok-new)) c.in_ok-new.ensures.few_read c.in_ok-new.ensures.forward

pub returns : goal.returns
returns g c =
    let at = goal.at.returns g c in
    let L = left g at.In_ok-new in
    let told = leans-same (drop (c.args.window.place.at + c.args.window.count) c.args.doc.now) _ _ _ _ _ _ _ c.flag.ensures c.flag-2.ensures c.prefix.ensures c.leans.ensures in
    let R = c.in_ok-new.ensures.read in
    let moves = c.finish.ensures ∙ (ap (λ (z : MovesWithRoom). z.moves) R.moves ∙ ap (λ z. z ++ putting_moves c.args.window.place.at (lines_in c.args.window.place.context c.deref-2.result.now)) (cleared _ _ _ _ _ _ c.in_ok-patch.ensures.moves c.take_lines.ensures)) in
    made _ _ _ _ c.requires.faithful c.requires.sited _ _ _ _ (clear g at.Else-is_too_long) (sym (misread-told _ _ _ _ _ L) ∙ (sym c.is_misread.ensures ∙ c.if-is_misread.false))
    (sym (leans-told _ _ _ _ _ _ _ (lines-there _ _ _ _ c.requires.faithful c.requires.sited) L) ∙ (sym told ∙ c.if-leans.false))
    (text g at.In_ok-new) moves c.in_ok-new.ensures.counted c.in_ok-new.ensures.few_read c.in_ok-new.ensures.forward
