use Rattle.std.proofs.lemmas.Result.{IfOk-weaker}
use Rattle.mk_edit_language.specs.EditViews.{place_of}
use Rattle.mk_script.specs.CommandTable.{nth_of_place, place_words}
use Rattle.mk_script.proofs.on_written.CommandTexts.{place-said}
use Rattle.mk_script.proofs.written.site_text.Goals as goal

pub returns-in-AtPlace : goal.returns-in-AtPlace
returns-in-AtPlace g c =
    let place = place_of c.in-AtPlace.place in
    rw c.in-AtPlace.is (IfOk-weaker c.said_at.result _ _ (λ text h. place-said (nth_of_place place) (place_words place) text.line.items text.below.items h) c.said_at.ensures)
