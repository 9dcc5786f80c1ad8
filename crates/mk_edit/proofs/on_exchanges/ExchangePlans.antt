-- The plan of an exchange of whole lines.
use Rattle.std.proofs.Common.{◌≡◌, ◌||◌, refl, sym, ap, ◌∙◌, subst, arith, ℕ, suc, ◌+◌, ◌<◌, ◌≤◌, Bool, true, false, List, [], ◌∷◌, ◌++◌, append_assoc, append-nil, length, length-append, Some, None}
use Rattle.std.specs.Prelude.{Ok, if◌then◌else◌, nat_lt}
use Rattle.std.proofs.lemmas.Bool.{ltb-false, ltb-true}
use Rattle.std.proofs.lemmas.List.{length-map, map-append}
use Rattle.mk_lines.specs.Limits.{max_text}
use Rattle.mk_lines.specs.Lists.{concat}
use Rattle.mk_lines.specs.LogicalLines.{logical_lines}
use Rattle.mk_lines.specs.PhysicalLines.{file_line_end}
use Rattle.mk_lines.specs.Pieces.{Replacement}
use Rattle.mk_lines.proofs.on_lines.LineLemmas.{among, concat-logical_lines, OneLine-logical}
use Rattle.mk_class.specs.ListTests.{is_empty}
use Rattle.mk_class.specs.Classes.Class.{If}
use Rattle.mk_class.specs.ClassTable.{class_of}
use Rattle.mk_class.specs.Contexts.{Context, start, conditionals_after, context_after, max_conditionals}
use Rattle.mk_class.specs.ClassedLines.{ClassedLine, classed, classed_lines}
use Rattle.mk_class.proofs.on_contexts.StepLemmas.{class_of-admits}
use Rattle.mk_tree.specs.Documents.{IsFaithful, document_lines, most_conditionals, context_of}
use Rattle.mk_tree.specs.NewLineEnds.{above_ended}
use Rattle.mk_tree.specs.LocatedLines.{LocatedLine, located_line, located_lines, located_text, size_of, AreConditionalsFit}
use Rattle.mk_tree.specs.Origins.{lines_between}
use Rattle.mk_tree.proofs.Indices.{size_of-append}
use Rattle.mk_tree.proofs.AdmissionLemmas.{defines_after-few}
use Rattle.mk_tree.proofs.Reading.{shallow, size_of-document}
use Rattle.mk_tree.proofs.on_documents.LinesInText.{bytes_of, run-in_text, text_of-bytes}
use Rattle.mk_edit_language.specs.Edits.{Site, AtPlace, BeforeRun, AfterRun, OfRun, OfRuleRun, ExchangeLines}
use Rattle.mk_edit_language.specs.ArgumentCauses.{bad_argument, is_place}
use Rattle.mk_class.specs.Arguments.{is_target}
use Rattle.mk_edit_language.specs.Causes.{where_holds}
use Rattle.mk_edit_language.specs.Costs.{cost, size}
use Rattle.mk_edit_language.specs.LineExchanges.{block_text, new_lines}
use Rattle.mk_edit_language.specs.LineCauses.{follows_open_line}
use Rattle.mk_edit_language.specs.LineRuns.{is_block, site_found}
use Rattle.mk_edit_language.specs.Refusals.{first_cause, spans, text_after}
use Rattle.mk_edit_language.specs.Stretches.{Stretch}
use Rattle.mk_edit_language.specs.declared.refusal.Field.TheVariants as field
use Rattle.mk_edit_language.proofs.on_edits.Accepted.{no-cause, two-passed, where_holds-none}
use Rattle.mk_edit_language.proofs.on_line_runs.BlockNumbers.{block-number}
use Rattle.mk_edit_language.proofs.on_line_runs.LinesExchanged.{lines-exchanged}
use Rattle.mk_edit_parts.specs.SitesFound.{IsSited, causes_of_site}
use Rattle.mk_edit_parts.specs.declared.window.Window.{Window}
use Rattle.mk_patch.proofs.on_moves.ShapeLemmas.{LeadTo}
use Rattle.mk_edit.specs.Planned.{IsPlanned, ended_by, ended_lines}
use Rattle.mk_edit.specs.PlannedMoves.{follows_unended}
use Rattle.mk_edit.specs.ExchangePlans.{clearing_moves, lines_in, putting_moves}
use Rattle.mk_edit.proofs.on_plans.DocumentPlaces.{defines-few, some-line}
use Rattle.mk_edit.proofs.on_plans.PlanLemmas.{after-fits, lead-planned}
use Rattle.mk_edit.proofs.on_exchanges.ExchangeCauses.{lines-there, size-lines}
use Rattle.mk_edit.proofs.on_exchanges.ExchangeMoves.{exchanging}
use Rattle.mk_edit.proofs.on_exchanges.LinesRead.{most-self}
use Rattle.mk_edit_language.specs.declared.refusal.Refusal.TheVariants.{OpenLine}

-- ---- the numbers

-- some lines of a text have a byte each
lines-some : (t : List ℕ) (before run after : List (List ℕ)) → logical_lines t ≡ before ++ (run ++ after) → length run ≤ length (concat run)
lines-some t before [] after h = omega arith
lines-some t before (l ∷ run) after h =
    let some = some-line l (OneLine-logical l (among t before l (run ++ after) h).one) in
    omega (arith, some, length-append l (concat run), lines-some t (before ++ l ∷ []) run after (h ∙ sym (append_assoc before (l ∷ []) (run ++ after))))

-- the lines above a site are no more than their bytes, and no more defines are open there
few-above : (t : List ℕ) (above lines below : List ClassedLine) → classed_lines t ≡ above ++ (lines ++ below) → (context_of above).defines ≤ size_of (located_lines above)
few-above t above lines below h =
    let run = run-in_text t above lines below h in
    let few = lines-some t [] (bytes_of above) (bytes_of lines ++ bytes_of below) run.lines in
    omega (arith, few, ap length (text_of-bytes above), size-lines above, length-bytes above, defines-few start above)
  where
    length-bytes : (ls : List ClassedLine) → length (bytes_of ls) ≡ length ls
    length-bytes [] = refl
    length-bytes (l ∷ ls) = ap (λ n. suc n) (length-bytes ls)

-- A text that is not too long has room for the new lines.
pub room-there : (s : Site) (ts : List (List ℕ)) (ls : List LocatedLine) (w : Window) (gone n m : ℕ) → IsFaithful ls → (S : IsSited s ts ls w) → gone ≡ size_of (lines_between w.place.at w.count ls)
    → nat_lt (max_text + gone) (size_of ls + (m + n)) ≡ false → w.place.context.defines + n ≤ max_text
room-there s ts ls w gone n m f S g h =
    let r = S.stretch in
    let M = S.meant in
    let W = lines-there s ts ls w f S in
    let whole : size_of ls ≡ size_of (located_lines r.above) + (size_of (located_lines r.lines) + size_of (located_lines r.below)) =
    ap size_of (f ∙ (ap located_lines M.stretch_is ∙ map-append located_line r.above (r.lines ++ r.below)))
    ∙ omega (arith, size_of-append (located_lines r.above) (located_lines (r.lines ++ r.below)), ap size_of (map-append located_line r.lines r.below), size_of-append (located_lines r.lines) (located_lines r.below)) in
    let few = few-above (located_text ls) r.above r.lines r.below M.stretch_is in
    omega (arith, whole, few, ap (λ (z : Context). z.defines) M.context_is, g, ap size_of W.going, ltb-false (max_text + gone) (size_of ls + (m + n)) h)

-- the new lines are those of a block, or none
allowed-block : (t : List ℕ) (s : Site) (ts : List (List ℕ)) → first_cause (causes_of_site t s ts) ≡ None → (is_empty ts || is_block ts) ≡ true
allowed-block t s ts h = go s (no-cause (causes_of_site t s ts) h).0
  where
    right : (a b : Bool) → b ≡ true → (a || b) ≡ true
    right true b h = refl
    right false b h = h

    go : (s : Site) → bad_argument (ExchangeLines s ts) ≡ None → (is_empty ts || is_block ts) ≡ true
    go (AtPlace p) h = right (is_empty ts) (is_block ts) (two-passed field.Place field.Block (is_place p) (is_block ts) h).1
    go (BeforeRun nth o) h = right (is_empty ts) (is_block ts) (two-passed field.Place field.Block (is_block o) (is_block ts) h).1
    go (AfterRun nth o) h = right (is_empty ts) (is_block ts) (two-passed field.Place field.Block (is_block o) (is_block ts) h).1
    go (OfRun nth o) h = (two-passed field.Old field.Block (is_block o) (is_empty ts || is_block ts) h).1
    go (OfRuleRun nth g) h = (two-passed field.Target field.Block (is_target g) (is_empty ts || is_block ts) h).1

-- as many lines are read as the edit costs
pub exchange-cost : (s : Site) (ts : List (List ℕ)) (ls : List LocatedLine) (w : Window) → (S : IsSited s ts ls w) → length (logical_lines (block_text (located_text ls) ts S.stretch)) ≡ cost (located_text ls) (ExchangeLines s ts)
exchange-cost s ts ls w S = block-number (located_text ls) ts S.stretch.lines (allowed-block (located_text ls) s ts S.unrefused)

-- ---- conditionals

few-fit : (t : List ℕ) → AreConditionalsFit 0 (document_lines t) → most_conditionals 0 (classed_lines t) ≤ max_conditionals
few-fit t h = go (nat_lt max_conditionals (most_conditionals 0 (classed_lines t))) refl
  where
    go : (b : Bool) → nat_lt max_conditionals (most_conditionals 0 (classed_lines t)) ≡ b → most_conditionals 0 (classed_lines t) ≤ max_conditionals
    go true k = absurd (shallow t h (ltb-true max_conditionals (most_conditionals 0 (classed_lines t)) k))
    go false k = ltb-false max_conditionals (most_conditionals 0 (classed_lines t)) k

-- lines that open few enough conditionals fit
fit-classed : (c : Context) (ls : List (List ℕ)) → c.defines + length ls ≤ max_text → most_conditionals c.conditionals (classed c ls) ≤ max_conditionals → AreConditionalsFit c.conditionals (located_lines (classed c ls))
fit-classed c [] few h = tt
fit-classed c (l ∷ ls) few h =
    let k = class_of c l in
    let next = context_after c k in
    let self = most-self next.conditionals (classed next ls) in
    let opens : k ≡ If → c.conditionals < max_conditionals = λ e. omega (arith, h, self, ap (conditionals_after c.conditionals) e) in
    let fits = (class_of-admits c l opens (omega (arith, few))).0 in
    (fits, fit-classed next ls (omega (arith, few, defines_after-few c.defines k)) (omega (arith, h)))

fit-few : (t : List ℕ) → length t ≤ max_text → most_conditionals 0 (classed_lines t) ≤ max_conditionals → AreConditionalsFit 0 (document_lines t)
fit-few t few h =
    let number = lines-some t [] (logical_lines t) [] (sym (append-nil (logical_lines t))) in
    fit-classed start (logical_lines t) (omega (arith, number, ap length (concat-logical_lines t), few)) h

-- ---- the plan

pub exchange-planned : (s : Site) (ts : List (List ℕ)) (ls : List LocatedLine) (w : Window) (rs : List Replacement) → IsFaithful ls → (S : IsSited s ts ls w) → spans (located_text ls) (ExchangeLines s ts) ≡ Ok rs
    → where_holds (follows_open_line (site_found (classed_lines (located_text ls)) s)) OpenLine ≡ None
    → IsPlanned (ExchangeLines s ts) ls (clearing_moves ls w.place.at w.count ++ putting_moves w.place.at (lines_in w.place.context (block_text (located_text ls) ts S.stretch)))
exchange-planned s ts ls w rs f S h line =
    let t = located_text ls in
    let edit = ExchangeLines s ts in
    let r = S.stretch in
    let M = S.meant in
    let E = file_line_end t in
    let new = new_lines t ts r in
    let K = (lines-exchanged s ts t rs h).kept in
    let same : K.stretch ≡ r = let e : Some K.stretch ≡ Some r = sym K.place ∙ S.found_is in cc in
    let after : classed_lines (text_after t edit) ≡ above_ended E r.above r.below ++ (new ++ r.below) =
    subst (λ (z : Stretch). classed_lines (text_after t edit) ≡ above_ended E z.above z.below ++ (new_lines t ts z ++ z.below)) same K.after in
    let closed : follows_open_line (Some r) ≡ false = ap follows_open_line (sym S.found_is) ∙ where_holds-none _ OpenLine line in
    let few = after-fits t edit rs _ h after in
    let few_bytes : length (text_after t edit) ≤ max_text = omega (arith, few, size_of-document (text_after t edit), ap (λ (z : List ClassedLine). size_of (located_lines z)) after) in
    let X = exchanging ls r.above r.lines r.below w.place.at w.count new f M.stretch_is M.place_is M.count_is closed few in
    let patch = clearing_moves ls w.place.at w.count ++ putting_moves w.place.at (located_lines new) in
    let shown : ls ≡ located_lines (r.above ++ (r.lines ++ r.below)) = f ∙ ap located_lines M.stretch_is in
    let lead : LeadTo patch ls (located_lines (above_ended E r.above r.below ++ (new ++ r.below))) = record {
      fit = record {
        in_turn = X.leads.in_turn;
        conditionals = λ c. subst (AreConditionalsFit 0) (sym (X.leads.lead ∙ ap located_lines (sym after)))
            (fit-few (text_after t edit) few_bytes (K.depth (few-fit t (subst (AreConditionalsFit 0) f c))));
      };
      lead = X.leads.lead;
    } in
    let ends : ended_lines ls edit ≡ (if follows_unended ls w.place.at then 1 else 0) =
    ap (ended_by ls) S.found_is ∙ ap (λ n. if follows_unended ls n then 1 else 0) M.place_is in
    let number_new : length new ≡ cost t edit = subst (λ (z : Stretch). length (new_lines t ts z) ≡ cost t edit) same K.number_new in
    let number_gone : w.count ≡ size t edit = sym M.count_is ∙ subst (λ (z : Stretch). length z.lines ≡ size t edit) same K.number_gone in
    let planned : IsPlanned edit ls patch =
    lead-planned edit ls rs patch (r.above ++ (r.lines ++ r.below)) (above_ended E r.above r.below ++ (new ++ r.below)) f h M.stretch_is after
    (subst (λ z. LeadTo patch z (located_lines (above_ended E r.above r.below ++ (new ++ r.below)))) shown lead)
    (omega (arith, X.held, length-map new located_line, number_new, ends)) (omega (arith, X.taken, number_gone, ends)) in
    subst (λ (c : Context). IsPlanned edit ls (clearing_moves ls w.place.at w.count ++ putting_moves w.place.at (lines_in c (block_text t ts r)))) M.context_is planned
