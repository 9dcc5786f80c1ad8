use Rattle.std.proofs.lemmas.Result.{IfOk-weaker}
use Rattle.mk_diff.specs.Stretches.{shown}
use Rattle.mk_diff.proofs.HunkTextLemmas.{hunk_text-is, in-two}
use Rattle.mk_diff.proofs.LeadsLemmas.{Leads-order}
use Rattle.mk_diff.proofs.hunk.put_hunk.Goals as goal

pub put_header-requires : goal.put_header-requires
put_header-requires g c =
    let w = c.args.whole in
    let order = Leads-order (shown c.args.old.now) (shown c.args.new.now) 0 w.old_start w.new_start c.args.changed.now w.old_end w.new_end c.requires in
    record { old_order = order.0; new_order = order.1 }

pub returns-clause-bytes : goal.returns-clause-bytes
returns-clause-bytes g c =
    let is = hunk_text-is (shown c.args.old.now) (shown c.args.new.now) c.args.whole c.args.changed.now c.requires in
    IfOk-weaker c.put_changes.result _ _ (λ _ bytes. in-two c.args.text.now.items _ _ _ _ _ c.in_ok-put_header.ensures.bytes is bytes) c.put_changes.ensures.bytes
