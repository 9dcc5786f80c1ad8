use Rattle.std.proofs.Common.{◌∷◌, ◌∙◌, ap, sym}
use Rattle.mk_class.specs.ClassTable.{defines_prefix}
use Rattle.mk_class.proofs.WordLemmas.{text_words-first}
use Rattle.mk_class.proofs.keyword.defines_prefix.Goals as goal

pub returns : goal.returns
returns c =
    let first = text_words-first c.args.text.now c.in-Some.field-0-0.now c.in-Some.rest.now c.in-Some.ensures.words in
    let second = text_words-first c.in-Some.rest.now c.in-Some-split_first_word.name.now c.in-Some-split_first_word.field-0-1.now c.in-Some-split_first_word.ensures.words in
    c.is_text.ensures ∙ sym (ap defines_prefix (first ∙ ap (λ ws. c.in-Some.field-0-0.now ∷ ws) second))
