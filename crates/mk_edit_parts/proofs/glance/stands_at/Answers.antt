use Rattle.std.proofs.Common.{◌∙◌, sym, ap}
use Rattle.std.specs.Str.{bytes_eq}
use Rattle.std.proofs.lemmas.Bool.{false≢true}
use Rattle.mk_edit_parts.proofs.on_renaming.WordEnds.{front-same}
use Rattle.mk_edit_parts.proofs.glance.stands_at.Goals as goal

pub returns : goal.returns
returns c other there =
    false≢true
    (sym other
    ∙ (c.is_same_text.ensures
    ∙ (ap (λ t. bytes_eq t c.args.word.now) c.part.ensures ∙ front-same c.args.word.now _ there.after (c.rest-ahead.ensures ∙ there.bytes))))
