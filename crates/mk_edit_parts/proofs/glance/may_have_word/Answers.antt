use Rattle.std.proofs.Common.{refl, sym, ◌∙◌, inl, arith}
use Rattle.mk_edit_parts.proofs.on_renaming.WordGlances.{no-word, none-found}
use Rattle.mk_edit_parts.proofs.glance.may_have_word.Goals as goal

pub returns-else-stands_at : goal.returns-else-stands_at
returns-else-stands_at c none =
    no-word c.args.text.now c.args.word.now _ c.args.span c.args.span c.requires (inl refl) (omega arith) (omega arith) (c.stands_at.ensures c.if-stands_at.false) (c.first_blank.ensures.none (none-found _ (sym c.is_some.ensures ∙ none)))
