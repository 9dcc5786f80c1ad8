use Rattle.std.proofs.Common.{◌≡◌, ◌∙◌, refl, ap, length, map, arith}
use Rattle.std.proofs.lemmas.List.{length-map}
use Rattle.mk_tree.specs.LocatedLines.{located_text}
use Rattle.mk_edit_language.specs.EditViews.{edit_of}
use Rattle.mk_patch.specs.Moves.{after_moves}
use Rattle.mk_session.specs.StoredSessions.{after_patches}
use Rattle.mk_session.proofs.on_sessions.GroupLemmas.{edit-at, none-made, next-made, all-made, first-refused, next-refused, cost-to, cost-within, cost-of-all}
use Rattle.mk_session.proofs.session.group.make_all.Goals as goal

pub returns-in_default-clause-refused : goal.returns-in_default-clause-refused
returns-in_default-clause-refused g c =
    first-refused (map edit_of c.args.edits.now) (edit_of c.index-edits-0.result) c.args.doc.now c.refusal_without_room.result
    (edit-at edit_of c.args.edits.now 0 c.index-edits-0.result c.requires.some c.index-edits-0.is) c.refusal_without_room.ensures.refused

pub returns-in_default-clause-few_read : goal.returns-in_default-clause-few_read
returns-in_default-clause-few_read g c =
    let t = located_text c.args.doc.now in
    let here = edit-at edit_of c.args.edits.now 0 c.index-edits-0.result c.requires.some c.index-edits-0.is in
    let within = cost-within (map edit_of c.args.edits.now) 0 (edit_of c.index-edits-0.result) t t here refl in
    omega (arith, c.refusal_without_room.ensures.few_read, within)

pub loop-edit-init : goal.loop-edit-init
loop-edit-init g c = record {
  made = none-made c.args.doc.now c.in-Ok.back c.requires.faithful (ap (λ b. b.changes) c.in-Ok.ensures);
  index = ap (λ b. length b.changes) c.in-Ok.ensures;
  room = ap (λ b. b.room) c.in-Ok.ensures;
  counted = omega arith;
  few_read = omega arith;
  forward = omega arith;
}

pub planned-requires : goal.planned-requires
planned-requires g c = record { faithful = c.loop-edit.invariant.made.faithful }

pub make_planned-requires-clause-faithful : goal.make_planned-requires-clause-faithful
make_planned-requires-clause-faithful g c = rw c.planned.ensures.same c.loop-edit.invariant.made.faithful

pub push_front-requires : goal.push_front-requires
push_front-requires g c = omega (arith, c.loop-edit.invariant.index, c.loop-edit.invariant.room, c.loop-edit-test.true)

pub take_back-requires : goal.take_back-requires
take_back-requires g c = rw c.planned.ensures.same c.loop-edit.invariant.made.fits_back

pub returns-in-Err-clause-refused : goal.returns-in-Err-clause-refused
returns-in-Err-clause-refused g c =
    let at : c.len-index.result ≡ c.loop-edit.edit-index = c.len-index.ensures ∙ c.loop-edit.invariant.index in
    rw at (next-refused (map edit_of c.args.edits.now) c.loop-edit.edit-index (edit_of c.edit-item.result) c.args.doc.now c.loop-edit.doc c.loop-edit.back c.in-Err.refusal
    (edit-at edit_of c.args.edits.now c.loop-edit.edit-index c.edit-item.result c.loop-edit-test.true c.edit-item.is) c.loop-edit.invariant.made c.in-Err.ensures.plans.refused)

pub returns-in-Err-clause-same : goal.returns-in-Err-clause-same
returns-in-Err-clause-same g c = c.take_back.ensures ∙ ap (after_patches c.loop-edit.back) c.planned.ensures.same ∙ c.loop-edit.invariant.made.leads_back

pub returns-in-Err-clause-few_read : goal.returns-in-Err-clause-few_read
returns-in-Err-clause-few_read g c =
    let here = edit-at edit_of c.args.edits.now c.loop-edit.edit-index c.edit-item.result c.loop-edit-test.true c.edit-item.is in
    omega (
      arith,
      c.planned.ensures.plans.few_read,
      c.loop-edit.invariant.few_read,
      cost-within (map edit_of c.args.edits.now) c.loop-edit.edit-index (edit_of c.edit-item.result) (located_text c.args.doc.now) (located_text c.loop-edit.doc) here c.loop-edit.invariant.made.texts,
    )

pub returns-in-Err-clause-forward : goal.returns-in-Err-clause-forward
returns-in-Err-clause-forward g c = omega (arith, c.planned.ensures.plans.forward, c.loop-edit.invariant.forward)

pub loop-edit-preserved : goal.loop-edit-preserved
loop-edit-preserved g c =
    let es = map edit_of c.args.edits.now in
    let i = c.loop-edit.edit-index in
    let e = edit_of c.edit-item.result in
    let here = edit-at edit_of c.args.edits.now i c.edit-item.result c.loop-edit-test.true c.edit-item.is in
    let costs = cost-to es i e (located_text c.args.doc.now) (located_text c.loop-edit.doc) here c.loop-edit.invariant.made.texts in
    let put = ap (λ p. p.changes) c.push_front.ensures in
    record {
      made = next-made es i e c.args.doc.now c.loop-edit.doc c.make_planned.new.self c.loop-edit.back c.push_front.new.self c.in-Ok-planned.patch c.make_planned.result here c.loop-edit.invariant.made
          c.in-Ok-planned.ensures.plans.planned (c.make_planned.ensures.after ∙ ap (after_moves c.in-Ok-planned.patch) c.planned.ensures.same) c.make_planned.ensures.fits_back
          (c.make_planned.ensures.leads_back ∙ c.planned.ensures.same) put;
      index = omega (arith, ap (λ x. length x) put, c.loop-edit.invariant.index);
      room = ap (λ p. p.room) c.push_front.ensures ∙ c.loop-edit.invariant.room;
      counted = omega (arith, c.loop-edit.invariant.counted, c.in-Ok-planned.ensures.plans.counted, costs);
      few_read = omega (arith, c.loop-edit.invariant.few_read, c.planned.ensures.plans.few_read, costs);
      forward = omega (arith, c.loop-edit.invariant.forward, c.planned.ensures.plans.forward);
    }

pub returns-clause-made : goal.returns-clause-made
returns-clause-made g c =
    all-made (map edit_of c.args.edits.now) c.loop-edit.edit-index c.args.doc.now c.loop-edit.doc c.loop-edit.back (omega (arith, length-map c.args.edits.now edit_of, c.loop-edit-test.false)) c.loop-edit.invariant.made

pub returns-clause-counted : goal.returns-clause-counted
returns-clause-counted g c =
    omega (
      arith,
      c.loop-edit.invariant.counted,
      cost-of-all (map edit_of c.args.edits.now) c.loop-edit.edit-index (located_text c.args.doc.now) (omega (arith, length-map c.args.edits.now edit_of, c.loop-edit-test.false)),
    )

pub returns-clause-few_read : goal.returns-clause-few_read
returns-clause-few_read g c =
    omega (
      arith,
      c.loop-edit.invariant.few_read,
      cost-of-all (map edit_of c.args.edits.now) c.loop-edit.edit-index (located_text c.args.doc.now) (omega (arith, length-map c.args.edits.now edit_of, c.loop-edit-test.false)),
    )

pub returns-clause-forward : goal.returns-clause-forward
returns-clause-forward g c = omega (arith, c.loop-edit.invariant.forward)
