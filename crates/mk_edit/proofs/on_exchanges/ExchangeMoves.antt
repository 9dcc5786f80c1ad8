-- The moves of an exchange of whole lines: a last line gets its line end, lines go, and new ones are put in. Each fits where it is
-- made, and they lead to the lines after the exchange.
use Rattle.std.proofs.Common.{◌≡◌, refl, sym, ap, ◌∙◌, subst, arith, ℕ, suc, ◌+◌, ◌<◌, ◌≤◌, ◌==◌, ◌&&◌, Bool, true, false, List, [], ◌∷◌, ◌++◌, append-nil, length, length-append, replicate, Option, Some, None}
use Rattle.std.specs.Prelude.{if◌then◌else◌}
use Rattle.std.proofs.lemmas.List.{length-map, map-append}
use Rattle.mk_lines.specs.Limits.{max_text}
use Rattle.mk_lines.specs.PhysicalLines.{line_end_bytes, file_line_end, without_line_end}
use Rattle.mk_lines.specs.LogicalLines.{is_open}
use Rattle.mk_class.specs.ListTests.{is_empty, last_passes}
use Rattle.mk_class.specs.ClassedLines.{ClassedLine, classed_lines}
use Rattle.mk_tree.specs.Documents.{IsFaithful}
use Rattle.mk_tree.specs.NewLineEnds.{above_ended, last_ended, lacks_line_end}
use Rattle.mk_tree.specs.LocatedLines.{LocatedLine, located_line, located_lines, located_text, size_of, last_line, bytes_of_line, with_last_bytes}
use Rattle.mk_tree.proofs.Indices.{size_of-append}
use Rattle.mk_tree.proofs.on_changes.NewLineLemmas.{file_line_end-some}
use Rattle.mk_tree.proofs.on_changes.EndedLast.{end-put, ended-already, located-last}
use Rattle.mk_edit_language.proofs.on_line_runs.LinesAbove.{last-has_end}
use Rattle.mk_patch.specs.Moves.{Move, TakeOut, SwapEnd, FitInTurn, after_move, after_moves, held_by, taken_by}
use Rattle.mk_patch.proofs.on_moves.MoveLemmas.{held_by-append, taken_by-append}
use Rattle.mk_patch.proofs.on_moves.ExchangeLemmas.{append-one}
use Rattle.mk_patch.proofs.on_moves.ShapeLemmas.{put-between, taken-between, run-held, run-taken}
use Rattle.mk_edit.specs.PlannedMoves.{is_unended, follows_unended, last_bytes_ended, ending_moves}
use Rattle.mk_edit.specs.ExchangePlans.{clearing_moves, putting_moves}
use Rattle.mk_edit.proofs.on_new_lines.InsertionLemmas.{follows-last}
use Rattle.mk_edit.proofs.on_plans.NewLinePlans.{last-apart, last_passes-last, some-end}

-- moves that each fit the lines that those before them leave, and lead to other lines
pub record LeadInTurn (ms : List Move) (before after : List LocatedLine) : Type 0 where
  pub in_turn : FitInTurn ms before
  pub lead : after_moves ms before ≡ after

in_turn-append : (ms ns : List Move) (a b c : List LocatedLine) → LeadInTurn ms a b → LeadInTurn ns b c → LeadInTurn (ms ++ ns) a c
in_turn-append [] ns a b c A B = subst (λ z. LeadInTurn ns z c) (sym A.lead) B
in_turn-append (m ∷ ms) ns a b c A B =
    let r = in_turn-append ms ns (after_move m a) b c (record { in_turn = A.in_turn.1; lead = A.lead }) B in
    record { in_turn = (A.in_turn.0, r.in_turn); lead = r.lead }

-- ---- lines put in

putting-leads : (above new below : List LocatedLine) (at : ℕ) → at ≡ length above → size_of (above ++ (new ++ below)) ≤ max_text → LeadInTurn (putting_moves at new) (above ++ below) (above ++ (new ++ below))
putting-leads above [] below at e few = record { in_turn = tt; lead = refl }
putting-leads above (l ∷ new) below at e few =
    let x = put-between above below l at e in
    let a = append-one above l below in
    let b = append-one above l (new ++ below) in
    let fits : size_of (above ++ below) + length l.bytes ≤ max_text = omega (arith, few, size_of-append above below, size_of-append above (l ∷ (new ++ below)), size_of-append new below) in
    let r = putting-leads (above ++ l ∷ []) new below (at + 1) (omega (arith, e, length-append above (l ∷ []))) (subst (λ z. size_of z ≤ max_text) (sym b) few) in
    record {
      in_turn = ((omega (arith, e, length-append above below), fits), subst (FitInTurn (putting_moves (at + 1) new)) (a ∙ sym x) r.in_turn);
      lead = ap (after_moves (putting_moves (at + 1) new)) (x ∙ sym a) ∙ (r.lead ∙ b);
    }

putting-held : (at : ℕ) (new : List LocatedLine) → held_by (putting_moves at new) ≡ length new
putting-held at [] = refl
putting-held at (l ∷ new) = omega (arith, putting-held (at + 1) new)

putting-taken : (at : ℕ) (new : List LocatedLine) → taken_by (putting_moves at new) ≡ 0
putting-taken at [] = refl
putting-taken at (l ∷ new) = omega (arith, putting-taken (at + 1) new)

-- ---- lines taken out

taking-leads : (above run below : List LocatedLine) (at : ℕ) → at ≡ length above → LeadInTurn (replicate (length run) (TakeOut at)) (above ++ (run ++ below)) (above ++ below)
taking-leads above [] below at e = record { in_turn = tt; lead = refl }
taking-leads above (l ∷ run) below at e =
    let x = taken-between above (run ++ below) l at e in
    let r = taking-leads above run below at e in
    record {
      in_turn = (omega (arith, length-append above (l ∷ (run ++ below)), e), subst (FitInTurn (replicate (length run) (TakeOut at))) (sym x) r.in_turn);
      lead = ap (after_moves (replicate (length run) (TakeOut at))) x ∙ r.lead;
    }

-- ---- a last line that gets its line end

-- whether a last line lacks a line end, or is open, if a stretch stands at the end of the lines of a text: the line above lines that
-- go does not
pub follows-stretch : (f : Option LocatedLine → Bool) (q : ClassedLine → Bool) → f None ≡ false → ((l : ClassedLine) → f (Some (located_line l)) ≡ q l) → (above lines below : List ClassedLine) (at : ℕ)
    → length above ≡ at → ((l : ClassedLine) (run : List ClassedLine) → lines ≡ l ∷ run → below ≡ [] → last_passes q above ≡ false)
    → ((at == length (located_lines (above ++ (lines ++ below)))) && f (last_line (located_lines (above ++ (lines ++ below))))) ≡ (is_empty below && last_passes q above)
follows-stretch f q none some above [] below at n ended = follows-last f q none some above below at n
follows-stretch f q none some above (l ∷ run) below at n ended =
    follows-last f q none some above (l ∷ (run ++ below)) at n ∙ sym (go below (ended l run refl))
  where
    go : (below : List ClassedLine) → (below ≡ [] → last_passes q above ≡ false) → (is_empty below && last_passes q above) ≡ false
    go [] h = h refl
    go (b ∷ below) h = refl

-- the last line above lines that go has a line end
ended-above : (t : List ℕ) (above lines below : List ClassedLine) → classed_lines t ≡ above ++ (lines ++ below) → (l : ClassedLine) (run : List ClassedLine) → lines ≡ l ∷ run → last_passes lacks_line_end above ≡ false
ended-above t above lines below h l run e = last-has_end t [] above l (run ++ below) (h ∙ ap (λ z. above ++ (z ++ below)) e)

-- whether a last line gets its line end
pub unended-told : (ls : List LocatedLine) (above lines below : List ClassedLine) (at : ℕ) → IsFaithful ls → classed_lines (located_text ls) ≡ above ++ (lines ++ below) → length above ≡ at
    → follows_unended ls at ≡ (is_empty below && last_passes lacks_line_end above)
unended-told ls above lines below at f h n =
    ap (λ z. (at == length z) && is_unended (last_line z)) (f ∙ ap located_lines h)
    ∙ follows-stretch is_unended lacks_line_end refl (λ l. refl) above lines below at n (λ l run e k. ended-above (located_text ls) above lines below h l run e)

-- how many lines this move holds, and how many it takes out
ending-held : (b : Bool) (ls : List LocatedLine) → held_by (ending_moves b ls) ≡ (if b then 1 else 0)
ending-held true ls = refl
ending-held false ls = refl

ending-taken : (b : Bool) (ls : List LocatedLine) → taken_by (ending_moves b ls) ≡ (if b then 1 else 0)
ending-taken true ls = refl
ending-taken false ls = refl

last_ended-already : (t : List ℕ) (above : List ClassedLine) → last_passes lacks_line_end above ≡ false → last_ended (file_line_end t) above ≡ above
last_ended-already t [] h = refl
last_ended-already t (x ∷ xs) h =
    let a = last-apart x xs in
    let lacks : lacks_line_end a.last ≡ false = sym (ap (last_passes lacks_line_end) a.is ∙ last_passes-last lacks_line_end a.front a.last) ∙ h in
    ap (last_ended (file_line_end t)) a.is ∙ (ended-already a.front a.last (file_line_end t) lacks ∙ sym a.is)

-- no last line gets one
unended-leads : (ls : List LocatedLine) (b : Bool) (after : List LocatedLine) → b ≡ false → ls ≡ after → LeadInTurn (ending_moves b ls) ls after
unended-leads ls b after n e = subst (λ z. LeadInTurn (ending_moves z ls) ls after) (sym n) (record { in_turn = tt; lead = e })

-- the last line gets one
ended-leads : (ls : List LocatedLine) (front : List ClassedLine) (last : ClassedLine) → IsFaithful ls → classed_lines (located_text ls) ≡ front ++ last ∷ [] → is_open last.bytes ≡ false → lacks_line_end last ≡ true
    → size_of (located_lines (last_ended (file_line_end (located_text ls)) (front ++ last ∷ []))) ≤ max_text
    → LeadInTurn (ending_moves true ls) ls (located_lines (last_ended (file_line_end (located_text ls)) (front ++ last ∷ [])))
ended-leads ls front last f h closed lacks few =
    let t = located_text ls in
    let E = file_line_end t in
    let shown : ls ≡ located_lines (front ++ last ∷ []) = f ∙ ap located_lines h in
    let b = last.bytes ++ line_end_bytes E in
    let X = end-put t front last E h closed (file_line_end-some t) lacks in
    let bytes : last_bytes_ended ls ≡ b = ap (λ z. bytes_of_line (last_line z) ++ line_end_bytes E) shown ∙ ap (λ z. z ++ line_end_bytes E) (located-last front last) in
    let lead : with_last_bytes b ls ≡ located_lines (last_ended E (front ++ last ∷ [])) = ap (with_last_bytes b) shown ∙ X.lines in
    let some : 0 < length ls = omega (arith, ap length shown, length-map (front ++ last ∷ []) located_line, length-append front (last ∷ [])) in
    let some_bytes : 0 < length b = omega (arith, length-append last.bytes (line_end_bytes E), some-end E (file_line_end-some t)) in
    subst (λ z. LeadInTurn (SwapEnd z ∷ []) ls (located_lines (last_ended E (front ++ last ∷ [])))) (sym bytes)
    (record {
      in_turn = ((some, some_bytes, X.same_text ∙ ap (λ z. without_line_end (bytes_of_line (last_line z))) (sym shown), subst (λ z. size_of z ≤ max_text) (sym lead) few), tt);
      lead = lead;
    })

-- The lines above a site get the line end that the last of them lacks, if nothing is below.
ending-leads : (ls : List LocatedLine) (above lines below : List ClassedLine) (at : ℕ) → IsFaithful ls → classed_lines (located_text ls) ≡ above ++ (lines ++ below) → length above ≡ at
    → (is_empty below && last_passes (λ l. is_open l.bytes) above) ≡ false
    → size_of (located_lines (above_ended (file_line_end (located_text ls)) above below)) ≤ max_text
    → LeadInTurn (ending_moves (follows_unended ls at) ls) ls (located_lines (above_ended (file_line_end (located_text ls)) above below ++ (lines ++ below)))
ending-leads ls above lines (b ∷ below) at f h n closed few =
    unended-leads ls (follows_unended ls at) _ (unended-told ls above lines (b ∷ below) at f h n) (f ∙ ap located_lines h)
ending-leads ls above (l ∷ run) [] at f h n closed few =
    let t = located_text ls in
    let none : last_passes lacks_line_end above ≡ false = ended-above t above (l ∷ run) [] h l run refl in
    unended-leads ls (follows_unended ls at) _ (unended-told ls above (l ∷ run) [] at f h n ∙ none)
    (f ∙ ap located_lines (h ∙ ap (λ z. z ++ (l ∷ (run ++ []))) (sym (last_ended-already t above none))))
ending-leads ls above [] [] at f h n closed few = go (last_passes lacks_line_end above) refl
  where
    t : List ℕ
    t = located_text ls

    whole : classed_lines t ≡ above
    whole = h ∙ append-nil above

    after : located_lines (last_ended (file_line_end t) above ++ []) ≡ located_lines (last_ended (file_line_end t) above)
    after = ap located_lines (append-nil (last_ended (file_line_end t) above))

    told : follows_unended ls at ≡ last_passes lacks_line_end above
    told = unended-told ls above [] [] at f h n

    lead : (above : List ClassedLine) → classed_lines t ≡ above → last_passes (λ l. is_open l.bytes) above ≡ false → last_passes lacks_line_end above ≡ true → size_of (located_lines (last_ended (file_line_end t) above)) ≤ max_text
        → LeadInTurn (ending_moves true ls) ls (located_lines (last_ended (file_line_end t) above))
    lead [] w c k m = absurd (cc)
    lead (x ∷ xs) w c k m =
        let a = last-apart x xs in
        let closed : is_open a.last.bytes ≡ false = sym (last_passes-last (λ z. is_open z.bytes) a.front a.last) ∙ (ap (last_passes (λ z. is_open z.bytes)) (sym a.is) ∙ c) in
        let lacks : lacks_line_end a.last ≡ true = sym (last_passes-last lacks_line_end a.front a.last) ∙ (ap (last_passes lacks_line_end) (sym a.is) ∙ k) in
        subst (λ (z : List ClassedLine). LeadInTurn (ending_moves true ls) ls (located_lines (last_ended (file_line_end t) z))) (sym a.is)
        (ended-leads ls a.front a.last f (w ∙ a.is) closed lacks (subst (λ (z : List ClassedLine). size_of (located_lines (last_ended (file_line_end t) z)) ≤ max_text) a.is m))

    go : (b : Bool) → last_passes lacks_line_end above ≡ b → LeadInTurn (ending_moves (follows_unended ls at) ls) ls (located_lines (last_ended (file_line_end t) above ++ []))
    go true k =
        subst (λ z. LeadInTurn (ending_moves z ls) ls (located_lines (last_ended (file_line_end t) above ++ []))) (sym (told ∙ k))
        (subst (LeadInTurn (ending_moves true ls) ls) (sym after) (lead above whole closed k few))
    go false k = unended-leads ls (follows_unended ls at) _ (told ∙ k) (f ∙ (ap located_lines (whole ∙ sym (last_ended-already t above k)) ∙ sym after))

-- ---- all moves

located-append : (a b : List ClassedLine) → located_lines a ++ located_lines b ≡ located_lines (a ++ b)
located-append a b = sym (map-append located_line a b)

located-three : (a b c : List ClassedLine) → located_lines a ++ (located_lines b ++ located_lines c) ≡ located_lines (a ++ (b ++ c))
located-three a b c = ap (λ z. located_lines a ++ z) (located-append b c) ∙ located-append a (b ++ c)

-- the lines above with the line end that a last line gets are as many
length-last_ended : (t : List ℕ) (above : List ClassedLine) → length (last_ended (file_line_end t) above) ≡ length above
length-last_ended t [] = refl
length-last_ended t (l ∷ []) = refl
length-last_ended t (l ∷ k ∷ ls) = ap (λ n. suc n) (length-last_ended t (k ∷ ls))

length-ended : (t : List ℕ) (above below : List ClassedLine) → length (above_ended (file_line_end t) above below) ≡ length above
length-ended t above [] = length-last_ended t above
length-ended t above (b ∷ below) = refl

-- The moves of an exchange fit in turn, and lead to the lines above, the new lines and the lines below; they hold as many lines as
-- are new, and take out as many as go, each number one higher if a last line gets its line end.
pub record AreExchanging (ls : List LocatedLine) (at count : ℕ) (new : List LocatedLine) (after : List LocatedLine) : Type 0 where
  pub leads : LeadInTurn (clearing_moves ls at count ++ putting_moves at new) ls after
  pub held : held_by (clearing_moves ls at count ++ putting_moves at new) ≡ length new + (if follows_unended ls at then 1 else 0)
  pub taken : taken_by (clearing_moves ls at count ++ putting_moves at new) ≡ count + (if follows_unended ls at then 1 else 0)

pub exchanging : (ls : List LocatedLine) (above lines below : List ClassedLine) (at count : ℕ) (new : List ClassedLine) → IsFaithful ls → classed_lines (located_text ls) ≡ above ++ (lines ++ below)
    → length above ≡ at → length lines ≡ count → (is_empty below && last_passes (λ l. is_open l.bytes) above) ≡ false
    → size_of (located_lines (above_ended (file_line_end (located_text ls)) above below ++ (new ++ below))) ≤ max_text
    → AreExchanging ls at count (located_lines new) (located_lines (above_ended (file_line_end (located_text ls)) above below ++ (new ++ below)))
exchanging ls above lines below at count new f h n m closed few =
    let t = located_text ls in
    let A = above_ended (file_line_end t) above below in
    let LA = located_lines A in
    let LL = located_lines lines in
    let LN = located_lines new in
    let LB = located_lines below in
    let b = follows_unended ls at in
    let ends = ending_moves b ls in
    let takes = replicate count (TakeOut at) in
    let puts = putting_moves at LN in
    let here : at ≡ length LA = sym n ∙ (sym (length-ended t above below) ∙ sym (length-map A located_line)) in
    let number : length LL ≡ count = length-map lines located_line ∙ m in
    let fits : size_of (LA ++ (LN ++ LB)) ≤ max_text = subst (λ z. size_of z ≤ max_text) (sym (located-three A new below)) few in
    let one : LeadInTurn ends ls (LA ++ (LL ++ LB)) =
    subst (LeadInTurn ends ls) (sym (located-three A lines below)) (ending-leads ls above lines below at f h n closed (omega (arith, fits, size_of-append LA (LN ++ LB)))) in
    let two : LeadInTurn takes (LA ++ (LL ++ LB)) (LA ++ LB) = subst (λ k. LeadInTurn (replicate k (TakeOut at)) (LA ++ (LL ++ LB)) (LA ++ LB)) number (taking-leads LA LL LB at here) in
    let three : LeadInTurn puts (LA ++ LB) (LA ++ (LN ++ LB)) = putting-leads LA LN LB at here fits in
    let cleared : LeadInTurn (ends ++ takes) ls (LA ++ LB) = in_turn-append ends takes ls (LA ++ (LL ++ LB)) (LA ++ LB) one two in
    record {
      leads = subst (LeadInTurn ((ends ++ takes) ++ puts) ls) (located-three A new below) (in_turn-append (ends ++ takes) puts ls (LA ++ LB) (LA ++ (LN ++ LB)) cleared three);
      held = omega (arith, held_by-append (ends ++ takes) puts, held_by-append ends takes, ending-held b ls, run-held count at, putting-held at LN);
      taken = omega (arith, taken_by-append (ends ++ takes) puts, taken_by-append ends takes, ending-taken b ls, run-taken count at, putting-taken at LN);
    }
