use Rattle.std.proofs.Common.{◌≡◌, ◌∙◌, ◌+◌, List, refl, rules, sym, ap, subst, arith}
use Rattle.std.specs.Prelude.{◌||◌}
use Rattle.mk_class.specs.Contexts.{Admits, Context, start, context_after_located}
use Rattle.mk_tree.specs.Admissions.{AreAdmitted}
use Rattle.mk_tree.specs.LocatedLines.{LocatedLine}
use Rattle.mk_tree.specs.TreeWalks.{LinesInContext}
use Rattle.mk_tree.specs.Trees.{line_view}
use Rattle.mk_edit.specs.RenameTargetEffects.{effect_on, joined, no_effect}
use Rattle.mk_edit.specs.RenameTargetPatches.{HasFewWords, HaveFewWords, HeldLine, held_places}
use Rattle.mk_edit_parts.specs.LocatedParts.{is_target_located, is_unread_located}
use Rattle.mk_edit_parts.specs.RenamedRanges.{has_parts}
use Rattle.mk_edit.specs.declared.rename_target_effect.Effect.{Effect}
use Rattle.mk_edit_parts.specs.declared.seek.Found.{Found}
use Rattle.mk_edit_parts.specs.declared.tally.Tally.{Tally}
use Rattle.mk_edit.proofs.on_renaming.PlacesNoted.{holds-none, holds-some, notes-kept, notes-more, passed-over, sets-none, word-absent}
use Rattle.mk_edit.proofs.on_renaming.SizesOfEffects.{joined-taken, joined-unread, room-ahead, walk-on}
use Rattle.mk_edit.proofs.on_renaming.WindowsSurveyed.{surveyed-all, surveyed-first, surveyed-last, surveyed-on}
use Rattle.mk_edit.proofs.rename_target_effect.surveyed.Goals as goal
use Rattle.mk_edit.proofs.rename_target_effect.surveyed.Goals.{then-has_parts+then-tally-gt0, then-has_parts+else-tally-gt0, else-has_parts, in-None, in-Some+then-at-end}

-- lines that are ahead of a walk, in their context
abbrev ahead : Context → List LocatedLine → LinesInContext
ahead c ls = record { context = c; lines = ls }

-- what is noted of a line
abbrev noted : Found → Tally → LocatedLine → HeldLine
noted p t l = record { place = p; tally = t; line = l }

pub lines-init : goal.lines-init
lines-init g c = (
  tt,
  tt,
  omega arith,
  surveyed-first (λ p. p.items) _ _ _ c.args.window.place _ _ _ (c.into_iter-line-iterator.ensures.into_iter_gives ∙ c.lines_from-line-items.ensures) c.requires.faithful c.size-size.ensures.few c.requires.admitted c.requires.effect c.requires.places,
)

pub count_words-tally-requires : goal.count_words-tally-requires
count_words-tally-requires g c =
    let few : HasFewWords c.args.from.now (line_view c.in-Some.line.now) × HaveFewWords c.args.from.now c.next.new.self = subst (HaveFewWords c.args.from.now) c.in-Some.ensures.steps c.lines.invariant.3.few in
    record { classed = few.0.classed; class = search rules; few = few.0.few; few_bytes = few.0.few_bytes }

pub effect_of_line-of_line-requires-clause-few_words : goal.effect_of_line-of_line-requires-clause-few_words
effect_of_line-of_line-requires-clause-few_words g c =
    let few : HasFewWords c.args.from.now (line_view c.in-Some.line.now) × HaveFewWords c.args.from.now c.next.new.self = subst (HaveFewWords c.args.from.now) c.in-Some.ensures.steps c.lines.invariant.3.few in
    few.0

pub joined-effect-requires : goal.joined-effect-requires
joined-effect-requires g c =
    let r = room-ahead c.args.from.now c.args.to.now c.args.doc.now c.lines.effect c.effect_of_line-of_line.result (ahead c.lines.context c.lines.line-iterator) c.lines.context (line_view c.in-Some.line.now) c.next.new.self c.in-Some.ensures.steps c.effect_of_line-of_line.ensures c.lines.invariant.3.effect_is
    c.requires.faithful c.size-size.ensures.few c.size-size.ensures.some_bytes in
    record { few_words = omega (arith, r.words); few_bytes = omega (arith, r.bytes); few_no_longer = omega (arith, r.no_longer); few_longer = omega (arith, r.longer) }

pub step-context-requires : goal.step-context-requires
step-context-requires g c =
    let admitted : Admits c.lines.context (line_view c.in-Some.line.now).class × AreAdmitted (context_after_located c.lines.context (line_view c.in-Some.line.now).class) c.next.new.self =
    subst (AreAdmitted c.lines.context) c.in-Some.ensures.steps c.lines.invariant.3.admitted in
    subst (Admits c.lines.context) (sym c.class-in-lines.ensures) admitted.0

pub lines-preserved : goal.lines-preserved
lines-preserved g c =
    let o = c.args.from.now in
    let n = c.args.to.now in
    let x = c.lines.context in
    let a = c.step-context.result in
    let l = line_view c.in-Some.line.now in
    let all = c.lines.line-iterator in
    let rest = c.next.new.self in
    let whole = effect_on o n start c.args.doc.now in
    let places = held_places o c.args.doc.now in
    let S = c.lines.invariant.3 in
    let s = c.in-Some.ensures.steps in
    let k : a ≡ context_after_located x l.class = c.step-context.ensures.located ∙ ap (context_after_located x) c.class-in-lines.ensures in
    let few : HasFewWords o l × HaveFewWords o rest = subst (HaveFewWords o) s S.few in
    let on = surveyed-on (λ p. p.items) o n c.args.doc.now c.args.window.place c.lines.at x a l all rest c.lines.effect c.if-has_parts.effect c.lines.places c.if-has_parts.places s k in
    let parts : has_parts l.class ≡ c.has_parts.result = ap has_parts (sym c.class.ensures) ∙ sym c.has_parts.ensures in (
      tt,
      tt,
      omega (arith, c.lines.invariant.2, c.if-at-end.false),
      elim c.if-has_parts.branch [
        | then-has_parts+then-tally-gt0 w ↦
            let t = w.count_words-tally.result in
            let holds = holds-some o l t w.count_words-tally.ensures w.if-tally-gt0.true in
            let place : Found = record { at = c.lines.at; context = x } in
            let held_is = ap (λ (z : Tally). noted place z l) w.count_words-tally.ensures in
            on
            (ap (λ (z : Effect). joined z (effect_on o n a rest)) w.effect-is ∙ walk-on o n c.lines.effect w.effect_of_line-of_line.result w.joined-effect.result whole x x a l all rest w.joined-effect.ensures w.effect_of_line-of_line.ensures refl s k S.effect_is)
            (rw w.places-is (notes-more (λ p. p.items) o places c.lines.at x a l all rest s k c.lines.places w.noted-places.result (record { place = place; tally = t; line = c.in-Some.line }) held_is holds w.noted-places.ensures S.places_are))
            S
        | then-has_parts+else-tally-gt0 w ↦
            let t = w.count_words-tally.result in
            let e : Effect = record no_effect { is_taken = is_target_located n l } in
            let i = sym (word-absent o n x l t few.0.classed (sets-none l (parts ∙ w.if-has_parts.true)) w.count_words-tally.ensures w.if-tally-gt0.false) in
            let now : Effect = record c.lines.effect { is_taken = c.lines.effect.is_taken || w.has_target.result } in
            let now_is : now ≡ joined c.lines.effect e = ap (λ b. record c.lines.effect { is_taken = c.lines.effect.is_taken || b }) w.has_target.ensures ∙ sym (joined-taken c.lines.effect (is_target_located n l)) in
            let free = holds-none o l t w.count_words-tally.ensures w.if-tally-gt0.false in
            on
            (ap (λ (z : Effect). joined z (effect_on o n a rest)) w.effect-is ∙ walk-on o n c.lines.effect e now whole x x a l all rest now_is i refl s k S.effect_is)
            (rw w.places-is (notes-kept (λ p. p.items) o places c.lines.at x a l all rest s k c.lines.places free S.places_are))
            S
        | else-has_parts w ↦
            let P = passed-over o n x l (parts ∙ w.if-has_parts.false) in
            let e : Effect = record no_effect { has_unread_prefix = is_unread_located l } in
            let now : Effect = record c.lines.effect { has_unread_prefix = c.lines.effect.has_unread_prefix || w.sets_prefix_unread.result } in
            let now_is : now ≡ joined c.lines.effect e = ap (λ b. record c.lines.effect { has_unread_prefix = c.lines.effect.has_unread_prefix || b }) w.sets_prefix_unread.ensures ∙ sym (joined-unread c.lines.effect (is_unread_located l)) in
            on
            (ap (λ (z : Effect). joined z (effect_on o n a rest)) w.effect-is ∙ walk-on o n c.lines.effect e now whole x x a l all rest now_is (sym P.effect) refl s k S.effect_is)
            (rw w.places-is (notes-kept (λ p. p.items) o places c.lines.at x a l all rest s k c.lines.places P.free S.places_are))
            S
      ],
    )

pub returns : goal.returns
returns g c =
    let over : c.lines.at ≡ c.args.window.place.at + c.args.window.count = elim c.match-next.branch [
      | in-None w ↦ surveyed-all (λ p. p.items) _ _ _ c.args.window.place c.lines.at c.args.window.count _ _ _ _ w.in-None.ensures.steps.0 c.requires.in_range c.lines.invariant.2 c.lines.invariant.3
      | in-Some+then-at-end w ↦ w.if-at-end.true
    ] in
    let T = surveyed-last (λ p. p.items) _ _ _ c.args.window.place c.lines.at c.args.window.count _ _ _ _ over c.lines.invariant.3 in
    record { effect = T.effect_is; places = T.places_are }
