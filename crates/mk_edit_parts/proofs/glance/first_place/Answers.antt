use Rattle.std.proofs.Common.{refl, inl, inr, arith}
use Rattle.mk_edit_parts.proofs.on_renaming.WordGlances.{passed-lacks}
use Rattle.mk_edit_parts.proofs.glance.first_place.Goals as goal

pub returns-clause-targets : goal.returns-clause-targets
returns-clause-targets c =
    passed-lacks c.args.text.now c.args.word.now c.args.parts c.args.parts.targets _ _ c.requires.0 (inl refl) (omega arith) c.last_end.ensures.targets (c.stands_at_front.ensures.targets c.if-stands_at_front.false) c.first_blank.ensures.none c.first_blank.ensures.first

pub returns-clause-normal : goal.returns-clause-normal
returns-clause-normal c =
    passed-lacks c.args.text.now c.args.word.now c.args.parts c.args.parts.normal _ _ c.requires.1 (inr (inl refl)) (omega arith) c.last_end.ensures.normal (c.stands_at_front.ensures.normal c.if-stands_at_front.false) c.first_blank.ensures.none c.first_blank.ensures.first

pub returns-clause-order_only : goal.returns-clause-order_only
returns-clause-order_only c =
    passed-lacks c.args.text.now c.args.word.now c.args.parts c.args.parts.order_only _ _ c.requires.2 (inr (inr refl)) (omega arith) c.last_end.ensures.order_only (c.stands_at_front.ensures.order_only c.if-stands_at_front.false) c.first_blank.ensures.none c.first_blank.ensures.first
