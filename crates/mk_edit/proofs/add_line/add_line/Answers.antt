use Rattle.std.proofs.Common.{◌∙◌, ◌++◌, sym, ap}
use Rattle.mk_lines.specs.PhysicalLines.{line_end_bytes}
use Rattle.mk_lines.specs.declared.ends.End.{End}
use Rattle.mk_edit_language.specs.NewLines.{new_text}
use Rattle.mk_edit_language.specs.EditViews.{edit_of}
use Rattle.mk_edit.proofs.on_new_lines.Additions.{line-added}
use Rattle.mk_edit.proofs.on_plans.PlanLemmas.{moves-made}
use Rattle.mk_edit.proofs.add_line.add_line.Goals as goal

pub insert_line-requires-clause-can : goal.insert_line-requires-clause-can
insert_line-requires-clause-can g c =
    let e = edit_of c.args.edit.now in
    let bytes = c.in-Ok.ensures ∙ (ap (λ p. new_text p e ++ line_end_bytes c.doc_line_end-end.result) c.prefix.ensures ∙ ap (λ (z : End). new_text c.args.place.context.prefix e ++ line_end_bytes z) c.doc_line_end-end.ensures) in
    (line-added c.args.doc.now e c.args.place c.in-Ok.bytes.items c.requires.faithful c.requires.decided (sym c.in_default.is ∙ c.place_refusal.ensures) c.requires.inserted bytes).can

pub returns : goal.returns
returns g c =
    let e = edit_of c.args.edit.now in
    let bytes = c.in-Ok.ensures ∙ (ap (λ p. new_text p e ++ line_end_bytes c.doc_line_end-end.result) c.prefix.ensures ∙ ap (λ (z : End). new_text c.args.place.context.prefix e ++ line_end_bytes z) c.doc_line_end-end.ensures) in
    let L = line-added c.args.doc.now e c.args.place c.in-Ok.bytes.items c.requires.faithful c.requires.decided (sym c.in_default.is ∙ c.place_refusal.ensures) c.requires.inserted bytes in
    moves-made _ _ _ _ _ _ _ L.planned L.costs c.insert_line.ensures.moves c.insert_line.ensures.reads
