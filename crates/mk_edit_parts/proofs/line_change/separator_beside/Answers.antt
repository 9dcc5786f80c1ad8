use Rattle.std.proofs.Common.{◌≡◌, ◌∙◌, ap, None}
use Rattle.mk_lines.specs.Ranges.{text_at, word_ranges}
use Rattle.mk_edit_parts.specs.LineChangePlaces.{separator_among}
use Rattle.mk_edit_parts.proofs.on_renaming.RangeLemmas.{text-words}
use Rattle.mk_edit_parts.proofs.line_change.separator_beside.Goals as goal

pub words-init : goal.words-init
words-init c =
    let v = c.args.value in
    let e : c.words-words.result ≡ word_ranges (text_at c.args.text.now v) = c.words-words.ensures.words ∙ ap word_ranges c.part.ensures in
    record {
      can_next = tt;
      is_finite = tt;
      within = text-words c.args.text.now v c.words-words.result c.requires.within e;
      among = ap (separator_among c.args.side c.args.text.now v.start c.args.wanted.now None) e;
    }
