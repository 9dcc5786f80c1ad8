use Rattle.std.proofs.Common.{◌≡◌, ◌∙◌, ◌≤◌, sym, ap, subst, arith, length, drop}
use Rattle.std.proofs.lemmas.List.{length-drop}
use Rattle.mk_class.specs.Contexts.{Admits}
use Rattle.mk_class.specs.declared.class.Class.{Class}
use Rattle.mk_tree.specs.Admissions.{AreAdmitted}
use Rattle.mk_tree.specs.Trees.{line_view}
use Rattle.mk_edit_parts.specs.Candidates.{Listed, seen_for}
use Rattle.mk_edit_parts.specs.LocatedParts.{AreEachClassed, assigns_located, is_unread_located}
use Rattle.mk_edit_parts.specs.SeekWalks.{noted, noted_by}
use Rattle.mk_edit_parts.proofs.on_finding.SeekWindows.{noted-first, noted-on}
use Rattle.mk_edit_parts.proofs.candidates.Candidates.list_in.Goals as goal

pub lines-init : goal.lines-init
lines-init g c = λ w.
    noted-first _ w c.args.doc.now _ _ c.requires.faithful (omega (arith, c.requires.in_range)) c.requires.admitted (subst (λ (k : Listed). length k.places ≤ c.args.window.place.at) (sym c.self.view_is) c.requires.no_more) c.lines_from-lines.ensures

pub unreachable-requires : goal.unreachable-requires
unreachable-requires g c =
    let d = c.args.doc.now in
    let from = c.args.window.place.at in
    let none = ap length ((c.lines.invariant 0).here ∙ c.in_default.ensures.steps.0) in
    omega (arith, none, length-drop c.lines.at (drop from d), length-drop from d, c.lines-test.true, c.requires.in_range)

pub assigns-is_meant-requires-clause-classed : goal.assigns-is_meant-requires-clause-classed
assigns-is_meant-requires-clause-classed g c = (subst AreEachClassed c.in-Some.ensures.steps (c.lines.invariant 0).classed).0

pub sets_prefix_unread-is_unread-requires-clause-classed : goal.sets_prefix_unread-is_unread-requires-clause-classed
sets_prefix_unread-is_unread-requires-clause-classed g c = (subst AreEachClassed c.in-Some.ensures.steps (c.lines.invariant 0).classed).0

pub note-requires-clause-few : goal.note-requires-clause-few
note-requires-clause-few g c =
    let n = (c.lines.invariant 0).number in
    let more = ap length c.in-Some.ensures.steps in
    omega (arith, n, more, c.if-prove.false, c.len.ensures.number)

pub note-requires-clause-admitted : goal.note-requires-clause-admitted
note-requires-clause-admitted g c =
    let here = (subst (AreAdmitted c.lines.self.end.context) c.in-Some.ensures.steps (c.lines.invariant 0).admitted).0 in
    subst (λ (k : Class). Admits c.lines.self.end.context k) (sym c.class-class.ensures) here

pub note-requires-clause-no_more : goal.note-requires-clause-no_more
note-requires-clause-no_more g c = (c.lines.invariant 0).no_more

pub lines-preserved : goal.lines-preserved
lines-preserved g c = λ w.
    let l = line_view c.in-Some.line.now in
    let s = seen_for w c.lines.self in
    let on : seen_for w c.note.new.self ≡ noted (assigns_located c.args.name.now) w l s =
    c.in_ok-note.ensures.seen w
    ∙ (ap (λ m. noted_by m c.sets_prefix_unread-is_unread.result w c.class-class.result s) c.assigns-is_meant.ensures
    ∙ (ap (λ u. noted_by (assigns_located c.args.name.now l) u w c.class-class.result s) c.sets_prefix_unread-is_unread.ensures
    ∙ ap (λ (k : Class). noted_by (assigns_located c.args.name.now l) (is_unread_located l) w k s) c.class-class.ensures)) in
    noted-on _ w _ _ s _ _ _ _ l _ (c.lines.invariant w) c.in-Some.ensures.steps on c.in_ok-note.ensures.no_more
