use Rattle.std.proofs.Common.{◌≡◌, ap, rules}
use Rattle.mk_lines.specs.Ranges.{text_at, word_ranges}
use Rattle.mk_edit_parts.specs.WordCuts.{last_end}
use Rattle.mk_edit_parts.proofs.on_prerequisites.WordRangeLemmas.{walk-from}
use Rattle.mk_edit_parts.proofs.prerequisite.words_end.Goals as goal

pub words-init : goal.words-init
words-init c =
    let e : c.into_iter-word-iterator.result ≡ word_ranges (text_at c.args.text.now c.args.span) = search rules in
    (tt, tt, walk-from c.args.text.now c.args.span c.into_iter-word-iterator.result c.requires.rises c.requires.within e, ap (last_end 0) e)
