use Rattle.std.proofs.Common.{◌≡◌, ◌∙◌, sym, ap, length}
use Rattle.std.proofs.lemmas.Iterator.Consumers.{YieldsList-from_first, count_from_yields_List}
use Rattle.memchr.specs.Find.{matches}
use Rattle.mk_edit_language.specs.EachLine.{recipe_text}
use Rattle.mk_edit_parts.proofs.on_values.PlacesNoted.{places-number}
use Rattle.mk_edit_parts.proofs.recipe_change.occurrences.Goals as goal

pub returns : goal.returns
returns c =
    let f = c.args.from.now in
    let found = matches (recipe_text c.args.line.now) f 0 in
    let e : c.find_iter.result ≡ found = c.find_iter.ensures.value ∙ ap (λ z. matches z f 0) c.recipe_text.ensures in
    count_from_yields_List c.find_iter.result c.count.result c.count.ensures.ran (YieldsList-from_first (λ x. x) (λ rest. rest) found e) ∙ sym (places-number 1 (length f) found)
