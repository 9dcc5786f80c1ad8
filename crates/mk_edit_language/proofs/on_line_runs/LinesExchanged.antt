-- Whole lines put in, taken out or exchanged: the other lines stay, and the reading changes as stated.
use Rattle.std.proofs.Common.{◌≡◌, refl, sym, ap, ◌∙◌, subst, arith, ℕ, ◌+◌, ◌≤◌, List, [], ◌∷◌, ◌++◌, append_assoc, Bool, true, false, not, ◌&&◌, ◌||◌, if◌then◌else◌, length, Option, Some, None, is_some, max}
use Rattle.std.specs.List.{list_any}
use Rattle.std.specs.Prelude.{Ok, ◌==◌, nat_lt}
use Rattle.std.proofs.lemmas.Bool.{eqb-true, ltb-false}
use Rattle.mk_lines.proofs.on_lists.BoolLemmas.{or-left_false, or-right_false}
use Rattle.mk_lines.specs.PhysicalLines.{file_line_end}
use Rattle.mk_lines.specs.LogicalLines.{logical_lines, has_no_line_end, ends_with_odd_run}
use Rattle.mk_lines.specs.declared.ends.End.{End}
use Rattle.mk_lines.specs.declared.ends.End.TheVariants as ends
use Rattle.mk_lines.proofs.on_lines.LineLemmas.{Ends, EndsBefore}
use Rattle.mk_lines.specs.Pieces.{Replacement}
use Rattle.mk_class.specs.ListTests.{is_empty, last_passes}
use Rattle.mk_class.specs.Arguments.{is_clean, is_target}
use Rattle.mk_class.specs.Contexts.{Context, start, context_after, max_conditionals}
use Rattle.mk_class.specs.ClassedLines.{ClassedLine, classed, classed_lines, context_after_lines}
use Rattle.mk_tree.specs.Documents.{text_of, context_of, most_conditionals}
use Rattle.mk_tree.specs.Items.{items}
use Rattle.mk_tree.specs.Readings.{reading}
use Rattle.mk_tree.specs.Leaning.{AgreeButForFlag}
use Rattle.mk_tree.specs.NewLineEnds.{lacks_line_end, above_ended, missing_line_end}
use Rattle.mk_tree.proofs.on_changes.NewLineLemmas.{file_line_end-some}
use Rattle.mk_tree.proofs.on_changes.RunsReplaced.{text-run_replaced, run-replaced_keeping, Ends-nothing}
use Rattle.mk_tree.proofs.on_documents.LinesInText.{bytes_of, reading-three}
use Rattle.mk_edit_language.specs.Edits.{Site, AtPlace, BeforeRun, AfterRun, OfRun, OfRuleRun, ExchangeLines}
use Rattle.mk_edit_language.specs.Spots.{nth_of, picked}
use Rattle.mk_edit_language.specs.Stretches.{Stretch}
use Rattle.mk_edit_language.specs.EditSpans.{where_found}
use Rattle.mk_edit_language.specs.RisingSpans.{Rise}
use Rattle.mk_edit_language.specs.Costs.{line_count}
use Rattle.mk_edit_language.specs.Changes.{with_new_lines, change}
use Rattle.mk_edit_language.specs.ArgumentCauses.{first_failed, is_place, exchange_tests}
use Rattle.mk_edit_language.specs.LineCauses.{follows_open_line}
use Rattle.mk_edit_language.specs.Refusals.{spans, text_by, text_after}
use Rattle.mk_edit_language.specs.LineRuns.{is_block, site_number, site_stretches, site_found}
use Rattle.mk_edit_language.specs.LineExchanges.{with_line_ends, last_line_end, block_text, new_lines, exchange_span}
use Rattle.mk_edit_language.specs.ExchangeCauses.{has_no_stretch, has_several_stretches, agree_but_for_flag, is_exchange_misread, leans_in, exchange_leans, exchange_causes}
use Rattle.mk_edit_language.specs.LinesExchanged.{AreLinesExchanged}
use Rattle.mk_edit_language.proofs.on_edits.Accepted as edits
use Rattle.mk_edit_language.proofs.on_edits.Accepted.{no-cause, where_holds-none, first-passed, two-passed}
use Rattle.mk_edit_language.proofs.on_line_runs.SitesFound.{site-stretch}
use Rattle.mk_edit_language.proofs.on_line_runs.BlockEnds.{block-ends, last_line_end-some}
use Rattle.mk_edit_language.proofs.on_line_runs.LinesAbove.{AreAboveEnded, above-ended, last-has_end}
use Rattle.mk_edit_language.proofs.on_line_runs.BlockNumbers.{block-number, length-classed}
use Rattle.mk_edit_language.specs.declared.refusal.Field.TheVariants as field
use Rattle.mk_edit_language.specs.declared.refusal.Refusal.TheVariants.{NoSuch, Ambiguous, OpenLine, Leans, Misread}

-- ---- what it says that no cause holds

-- the causes that the proof needs, and the spans
record IsAccepted (t : List ℕ) (s : Site) (ts : List (List ℕ)) (found : Option Stretch) (rs : List Replacement) : Type 0 where
  fields : first_failed (exchange_tests s ts) ≡ None
  is_there : has_no_stretch (site_number s) (site_stretches (classed_lines t) s) ≡ false
  is_one : has_several_stretches (site_number s) (site_stretches (classed_lines t) s) ≡ false
  closed : follows_open_line found ≡ false
  read : is_exchange_misread t ts found ≡ false
  free : exchange_leans t ts found ≡ false
  spans_are : where_found (exchange_span t ts) found ≡ rs

accepted : (t : List ℕ) (s : Site) (ts : List (List ℕ)) (rs : List Replacement) → spans t (ExchangeLines s ts) ≡ Ok rs → IsAccepted t s ts (site_found (classed_lines t) s) rs
accepted t s ts rs h =
    let ls = classed_lines t in
    let A = edits.accepted t (ExchangeLines s ts) rs h in
    let n = no-cause (exchange_causes t ls s ts (site_found ls s)) A.exchangeable in
    let from_open_line = n.1.1.1.1.1.1 in
    let from_misread = from_open_line.1.1.1 in
    record {
      fields = A.arguments;
      is_there = where_holds-none _ NoSuch n.0;
      is_one = where_holds-none _ (Ambiguous (length (site_stretches ls s))) n.1.1.0;
      closed = where_holds-none _ OpenLine from_open_line.0;
      read = where_holds-none _ Misread from_misread.0;
      free = where_holds-none _ Leans from_misread.1.0;
      spans_are = A.spans_are;
    }

-- a site that is neither missing nor one of several means a stretch
pub stretch-picked : (nth : Option ℕ) (ss : List Stretch) → has_no_stretch nth ss ≡ false → has_several_stretches nth ss ≡ false → (s : Stretch) × (picked nth ss ≡ Some s)
stretch-picked None [] h k = absurd (cc)
stretch-picked None (s ∷ []) h k = (s, refl)
stretch-picked None (s ∷ r ∷ ss) h k = absurd (cc)
stretch-picked (Some n) ss h k = go (nth_of n ss) refl h
  where
    go : (o : Option Stretch) → nth_of n ss ≡ o → not (is_some o) ≡ false → (s : Stretch) × (nth_of n ss ≡ Some s)
    go None e h = absurd (cc)
    go (Some s) e h = (s, e)

-- the new lines are those of a block, or none
block-tested : (s : Site) (ts : List (List ℕ)) → first_failed (exchange_tests s ts) ≡ None → (is_empty ts || is_block ts) ≡ true
block-tested s ts h = go s h
  where
    right : (a b : Bool) → b ≡ true → (a || b) ≡ true
    right true b h = refl
    right false b h = h

    go : (s : Site) → first_failed (exchange_tests s ts) ≡ None → (is_empty ts || is_block ts) ≡ true
    go (AtPlace p) h = right (is_empty ts) (is_block ts) (two-passed field.Place field.Block (is_place p) (is_block ts) h).1
    go (BeforeRun nth o) h = right (is_empty ts) (is_block ts) (two-passed field.Place field.Block (is_block o) (is_block ts) h).1
    go (AfterRun nth o) h = right (is_empty ts) (is_block ts) (two-passed field.Place field.Block (is_block o) (is_block ts) h).1
    go (OfRun nth o) h = (two-passed field.Old field.Block (is_block o) (is_empty ts || is_block ts) h).1
    go (OfRuleRun nth g) h = (two-passed field.Target field.Block (is_target g) (is_empty ts || is_block ts) h).1

both-false : (a b : Bool) → (not a && not b) ≡ true → (a ≡ false) × (b ≡ false)
both-false true b h = absurd (cc)
both-false false true h = absurd (cc)
both-false false false h = (refl, refl)

-- what two contexts agree in
agree-parts : (c d : Context) → not (agree_but_for_flag c d) ≡ false → AgreeButForFlag c d
agree-parts c d h =
    let p = parts (c.defines == d.defines) (c.conditionals == d.conditionals) (c.prefix == d.prefix) h in
    record {
      defines = eqb-true c.defines d.defines p.0;
      conditionals = eqb-true c.conditionals d.conditionals p.1;
      prefix = eqb-true c.prefix d.prefix p.2;
    }
  where
    parts : (x y z : Bool) → not (x && (y && z)) ≡ false → (x ≡ true) × (y ≡ true) × (z ≡ true)
    parts false y z h = absurd (cc)
    parts true false z h = absurd (cc)
    parts true true false h = absurd (cc)
    parts true true true h = (refl, refl, refl)

-- ---- the new lines end where lines follow them

block-ends_or_none : (e : End) (ts : List (List ℕ)) → has_no_line_end e ≡ false → (is_empty ts || is_block ts) ≡ true → Ends (with_line_ends e e ts)
block-ends_or_none e [] h k = Ends-nothing
block-ends_or_none e (t ∷ ts) h k =
    let p = both-false (list_any (λ x. not (is_clean x)) (t ∷ ts)) (last_passes ends_with_odd_run (t ∷ ts)) k in
    block-ends e e t ts h h p.0 p.1

new-ends : (t : List ℕ) (ts : List (List ℕ)) (above run below : List ClassedLine) → classed_lines t ≡ above ++ (run ++ below) → (is_empty ts || is_block ts) ≡ true
    → EndsBefore (block_text t ts (record { above = above; lines = run; below = below })) (bytes_of below)
new-ends t ts above run [] h k = tt
new-ends t ts above run (b ∷ below) h k =
    let e = last_line_end (file_line_end t) run in
    let n : last_passes lacks_line_end run ≡ false = last-has_end t above run b below h in
    subst (λ x. Ends (with_line_ends e (if x && not (last_passes is_empty ts) then ends.None else e) ts)) (sym n)
    (block-ends_or_none e ts (last_line_end-some (file_line_end t) run (file_line_end-some t)) k)

-- ---- the lines afterwards

any-lines : (x : List ℕ) (ls : List (List ℕ)) → Ends x → EndsBefore x ls
any-lines x [] h = tt
any-lines x (l ∷ ls) h = h

exchanged : (t : List ℕ) (above run below : List ClassedLine) (e : End) (v : List ℕ) (new after : List ClassedLine) (added : List ℕ) → AreAboveEnded above run below after added
    → classed (context_of above) (logical_lines v) ≡ new → EndsBefore v (bytes_of below)
    → AgreeButForFlag (context_after_lines (context_of above) run) (context_after_lines (context_of above) new)
    → leans_in (context_of above) run new below ≡ false
    → classed_lines (text_of above ++ ((added ++ v) ++ text_of below)) ≡ after ++ (new ++ below)
exchanged t above run below e v new after added A k ends agree free =
    let c : context_of above ≡ context_of after = sym A.same_context in
    let text : text_of above ++ ((added ++ v) ++ text_of below) ≡ text_of after ++ (v ++ text_of below) =
    ap (λ z. text_of above ++ z) (append_assoc added v (text_of below)) ∙ (sym (append_assoc (text_of above) added (v ++ text_of below)) ∙ ap (λ z. z ++ (v ++ text_of below)) (sym A.text)) in
    ap classed_lines text
    ∙ run-replaced_keeping A.whole_text after run below v new A.whole
    (subst (λ (z : Context). classed z (logical_lines v) ≡ new) c k)
    (λ z. any-lines (text_of after) (logical_lines v) (A.ends z)) ends
    (subst (λ (z : Context). AgreeButForFlag (context_after_lines z run) (context_after_lines z new)) c agree)
    (subst (λ (z : Context). leans_in z run new below ≡ false) c free)

-- ---- how many conditionals are open

max-parts : (a b m : ℕ) → max a b ≤ m → (a ≤ m) × (b ≤ m)
max-parts a b m h = (omega arith, omega arith)

max-of : (a b m : ℕ) → a ≤ m → b ≤ m → max a b ≤ m
max-of a b m h k = omega arith

most-after : (c : Context) (run below : List ClassedLine) (m : ℕ) → most_conditionals c.conditionals (run ++ below) ≤ m → most_conditionals (context_after_lines c run).conditionals below ≤ m
most-after c [] below m h = h
most-after c (l ∷ run) below m h =
    let d = context_after c l.class in
    most-after d run below m (max-parts c.conditionals (most_conditionals d.conditionals (run ++ below)) m h).1

most-before : (c : Context) (new below : List ClassedLine) (m : ℕ) → most_conditionals c.conditionals new ≤ m → most_conditionals (context_after_lines c new).conditionals below ≤ m → most_conditionals c.conditionals (new ++ below) ≤ m
most-before c [] below m h k = k
most-before c (l ∷ new) below m h k =
    let d = context_after c l.class in
    let p = max-parts c.conditionals (most_conditionals d.conditionals new) m h in
    max-of c.conditionals (most_conditionals d.conditionals (new ++ below)) m p.0 (most-before d new below m p.1 k)

-- lines in the place of others, after which as many conditionals are open
most-exchanged : (c : Context) (above run new below : List ClassedLine) (m : ℕ) → most_conditionals (context_after_lines c above).conditionals new ≤ m
    → (context_after_lines (context_after_lines c above) run).conditionals ≡ (context_after_lines (context_after_lines c above) new).conditionals
    → most_conditionals c.conditionals (above ++ (run ++ below)) ≤ m → most_conditionals c.conditionals (above ++ (new ++ below)) ≤ m
most-exchanged c [] run new below m h e k = most-before c new below m h (subst (λ z. most_conditionals z below ≤ m) e (most-after c run below m k))
most-exchanged c (l ∷ above) run new below m h e k =
    let d = context_after c l.class in
    let p = max-parts c.conditionals (most_conditionals d.conditionals (above ++ (run ++ below))) m k in
    max-of c.conditionals (most_conditionals d.conditionals (above ++ (new ++ below))) m p.0 (most-exchanged d above run new below m h e p.1)

most-within : (m n : ℕ) → nat_lt m n ≡ false → n ≤ m
most-within m n h = omega (arith, ltb-false m n h)

rise-one : (a n : ℕ) (v : List ℕ) → Rise a (a + n) (record { start = a; end = a + n; new = v } ∷ [])
rise-one a n v = (omega arith, omega arith, omega arith)

-- ---- the laws

-- What is known of an accepted exchange of whole lines: what it leaves, and what the text after it reads as.
pub record AreMade (site : Site) (ts : List (List ℕ)) (t : List ℕ) (rs : List Replacement) : Type 0 where
  pub kept : AreLinesExchanged site ts t rs
  pub reads : reading (text_after t (ExchangeLines site ts)) ≡ change t (ExchangeLines site ts)

-- at a stretch of the text
at-stretch : (t : List ℕ) (site : Site) (ts : List (List ℕ)) (above run below : List ClassedLine) → site_found (classed_lines t) site ≡ Some (record { above = above; lines = run; below = below })
    → spans t (ExchangeLines site ts) ≡ Ok (exchange_span t ts (record { above = above; lines = run; below = below }))
    → classed_lines t ≡ above ++ (run ++ below) → (is_empty ts || is_block ts) ≡ true
    → follows_open_line (Some (record { above = above; lines = run; below = below })) ≡ false
    → is_exchange_misread t ts (Some (record { above = above; lines = run; below = below })) ≡ false
    → exchange_leans t ts (Some (record { above = above; lines = run; below = below })) ≡ false
    → AreMade site ts t (exchange_span t ts (record { above = above; lines = run; below = below }))
at-stretch t site ts above run below found spans_are h block closed read free =
    let s : Stretch = record { above = above; lines = run; below = below } in
    let edit = ExchangeLines site ts in
    let e = file_line_end t in
    let c = context_of above in
    let v = block_text t ts s in
    let new = new_lines t ts s in
    let A : AreAboveEnded above run below (above_ended e above below) (missing_line_end e above below) = above-ended t above run below e h closed (file_line_end-some t) in
    let many : most_conditionals c.conditionals new ≤ max_conditionals = most-within max_conditionals (most_conditionals c.conditionals new) (or-left_false _ _ read) in
    let agree : AgreeButForFlag (context_after_lines c run) (context_after_lines c new) = agree-parts (context_after_lines c run) (context_after_lines c new) (or-right_false _ _ (or-right_false _ _ read)) in
    let text : text_after t edit ≡ text_of above ++ ((missing_line_end e above below ++ v) ++ text_of below) = ap (text_by t) spans_are ∙ text-run_replaced t above run below (missing_line_end e above below ++ v) h in
    let after : classed_lines (text_after t edit) ≡ above_ended e above below ++ (new ++ below) =
    ap classed_lines text ∙ exchanged t above run below e v new (above_ended e above below) (missing_line_end e above below) A refl (new-ends t ts above run below h block) agree free in
    record {
      kept = record {
        stretch = s;
        place = found;
        before = h;
        after = after;
        within = rise-one (length (text_of above)) (length (text_of run)) (missing_line_end e above below ++ v);
        number_new = length-classed c (logical_lines v) ∙ block-number t ts run block;
        number_gone = sym (ap line_count found);
        depth = λ k.
            subst (λ (z : List ClassedLine). most_conditionals 0 z ≤ max_conditionals) (sym after)
            (most-exchanged start (above_ended e above below) run new below max_conditionals
            (subst (λ (z : Context). most_conditionals z.conditionals new ≤ max_conditionals) (sym A.same_context) many)
            (subst (λ (z : Context). (context_after_lines z run).conditionals ≡ (context_after_lines z new).conditionals) (sym A.same_context) agree.conditionals)
            (subst (λ z. z ≤ max_conditionals) (sym A.same_most) (subst (λ (z : List ClassedLine). most_conditionals 0 z ≤ max_conditionals) h k)));
      };
      reads =
          reading-three (text_after t edit) (above_ended e above below) new below after
          ∙ (ap (λ z. z ++ (items new ++ items below)) A.same_items ∙ sym (ap (where_found (with_new_lines t ts)) found));
    }

pub lines-exchanged : (site : Site) (ts : List (List ℕ)) (t : List ℕ) (rs : List Replacement) → spans t (ExchangeLines site ts) ≡ Ok rs → AreMade site ts t rs
lines-exchanged site ts t rs h =
    let ls = classed_lines t in
    let A : IsAccepted t site ts (site_found ls site) rs = accepted t site ts rs h in
    let p = stretch-picked (site_number site) (site_stretches ls site) A.is_there A.is_one in
    let s : Stretch = p.0 in
    let found : site_found ls site ≡ Some s = p.1 in
    let spans_are : rs ≡ exchange_span t ts s = sym A.spans_are ∙ ap (where_found (exchange_span t ts)) found in
    let block = block-tested site ts A.fields in
    subst (AreMade site ts t) (sym spans_are)
    (at-stretch t site ts s.above s.lines s.below found (h ∙ ap Ok spans_are) (site-stretch ls site s found) block
    (subst (λ (z : Option Stretch). follows_open_line z ≡ false) found A.closed)
    (subst (λ (z : Option Stretch). is_exchange_misread t ts z ≡ false) found A.read)
    (subst (λ (z : Option Stretch). exchange_leans t ts z ≡ false) found A.free))
