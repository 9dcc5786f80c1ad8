-- The patch of a rename: its two turns lead from the lines of a document to those after the rename, and hold few lines.
use Rattle.std.proofs.Common.{◌≡◌, refl, sym, ap, ◌∙◌, subst, arith, ℕ, ◌+◌, ◌*◌, ◌≤◌, Bool, true, false, not, ◌&&◌, List, [], ◌∷◌, map, length, filter, Option, None}
use Rattle.std.specs.Prelude.{Ok, nat_lt, if◌then◌else◌}
use Rattle.mk_lines.specs.Limits.{max_text}
use Rattle.mk_class.specs.Contexts.{Context, start, context_after, context_after_located}
use Rattle.mk_class.specs.ClassedLines.{ClassedLine, classed_lines}
use Rattle.mk_tree.specs.Documents.{IsFaithful}
use Rattle.mk_tree.specs.LocatedLines.{LocatedLine, located_line, located_lines, located_text, size_of}
use Rattle.mk_tree.proofs.on_documents.LinesInText.{AreClassed, AreClassed-class, AreClassed-tail, AreClassed-lines}
use Rattle.mk_edit_language.specs.Edits.{RenameTarget}
use Rattle.mk_edit_language.specs.Costs.{cost, is_renamed}
use Rattle.mk_edit_language.specs.EditSpans.{spans_of}
use Rattle.mk_edit_language.specs.Refusals.{causes, first_cause, spans, text_after, unless_refused}
use Rattle.mk_edit_language.specs.declared.refusal.Refusal.{Refusal}
use Rattle.mk_edit_language.proofs.on_edits.KeptByRenameTargetLemmas.{rename_target-keeps}
use Rattle.mk_patch.specs.Moves.{Exchange, IsPlain, FitMoves, after_moves, held_by, taken_by}
use Rattle.mk_patch.proofs.on_moves.MoveLemmas.{after_moves-append, fit-append, held_by-append, taken_by-append}
use Rattle.mk_patch.proofs.on_moves.ShapeLemmas.{LeadTo}
use Rattle.mk_patch.proofs.on_moves.ExchangeLemmas.{exchanges, DifferWhereChosen, AreNoLonger, how_many, exchanges-lead, exchanges-held_chosen, exchanges-taken_chosen, within-shrunk, within-grown}
use Rattle.mk_edit.specs.Planned.{IsPlanned}
use Rattle.mk_edit_parts.specs.RenamedRanges.{renamed_ranges, bytes_in}
use Rattle.mk_edit.specs.RenameTargetPatches.{holds_word, is_turn_of, is_exchanged, exchanged_count, line_renamed, before_moves, turn_moves_from, turn_moves, renaming_moves, CanEachBeRenamed}
use Rattle.mk_edit.specs.declared.rename_target_effect.Turn.{Turn}
use Rattle.mk_edit.specs.declared.rename_target_effect.Turn.TheVariants as turn
use Rattle.mk_edit.proofs.on_plans.PlanLemmas.{lead-planned, after-fits, faithful-length}
use Rattle.mk_edit.proofs.on_renaming.LinesRenamed.{holds-renamed}
use Rattle.mk_edit.proofs.on_renaming.LinesAlong.{line_where, renamed_where, lines-can, lines-become}
use Rattle.mk_edit.proofs.on_renaming.PatchTurns.{exchanged-holds, exchanged-no_longer, exchanged-longer}

-- ---- how many pass a test

pub filter-step : {X : Type 0} (p : X → Bool) (x : X) (xs : List X) → length (filter p (x ∷ xs)) ≡ (if p x then 1 else 0) + length (filter p xs)
filter-step p x xs = go (p x)
  where
    go : (b : Bool) → length (if b then x ∷ filter p xs else filter p xs) ≡ (if b then 1 else 0) + length (filter p xs)
    go true = omega arith
    go false = omega arith

-- ---- the moves of a turn are exchanges of the lines that pass its test

module _ (t : Turn) (o n : List ℕ) where
  -- each line that is exchanged in a turn is renamed after it
  turn-exchanges : (p : LocatedLine → Bool) → ((l : LocatedLine) → is_exchanged t o n l ≡ true → p l ≡ true) → (at : ℕ) (c : Context) (ls : List LocatedLine)
      → exchanges at (map (is_exchanged t o n) ls) (renamed_where p o n c ls) ≡ turn_moves_from t o n at c ls
  turn-exchanges p f at c [] = refl
  turn-exchanges p f at c (l ∷ ls) = go (is_exchanged t o n l) (f l) (turn-exchanges p f (at + 1) (context_after_located c l.class) ls)
    where
      go : (b : Bool) → (b ≡ true → p l ≡ true) → exchanges (at + 1) (map (is_exchanged t o n) ls) (renamed_where p o n (context_after_located c l.class) ls) ≡ turn_moves_from t o n (at + 1) (context_after_located c l.class) ls
          → exchanges at (b ∷ map (is_exchanged t o n) ls) (line_where (p l) (line_renamed o n c l) l ∷ renamed_where p o n (context_after_located c l.class) ls)
          ≡ before_moves b (Exchange at (line_renamed o n c l)) (turn_moves_from t o n (at + 1) (context_after_located c l.class) ls)
      go true h i =
          ap (λ z. Exchange at (line_where z (line_renamed o n c l) l) ∷ exchanges (at + 1) (map (is_exchanged t o n) ls) (renamed_where p o n (context_after_located c l.class) ls)) (h refl)
          ∙ ap (λ z. Exchange at (line_renamed o n c l) ∷ z) i
      go false h i = i

  turn-number : (ls : List LocatedLine) → how_many (map (is_exchanged t o n) ls) ≡ exchanged_count t o n ls
  turn-number [] = refl
  turn-number (l ∷ ls) = go (is_exchanged t o n l) (turn-number ls) ∙ sym (filter-step (is_exchanged t o n) l ls)
    where
      go : (b : Bool) → how_many (map (is_exchanged t o n) ls) ≡ exchanged_count t o n ls → how_many (b ∷ map (is_exchanged t o n) ls) ≡ (if b then 1 else 0) + exchanged_count t o n ls
      go true h = omega (arith, h)
      go false h = omega (arith, h)

-- ---- the turns part the lines that hold the word

-- what the two tests of a line say of the test whether it holds the word
pub record ArePartedTests (first second whole : Bool) : Type 0 where
  pub both : second ≡ true → (first ≡ false) × (whole ≡ true)
  pub one : second ≡ false → first ≡ whole

parted : (w b n : ℕ) → (is_turn_of turn.Longer w b n ≡ true → nat_lt 0 w ≡ true) → ArePartedTests (is_turn_of turn.NoLonger w b n) (is_turn_of turn.Longer w b n) (nat_lt 0 w)
parted w b n some = go (nat_lt b (w * n)) (nat_lt 0 w) some
  where
    and-none : (q : Bool) → (q && false) ≡ false
    and-none true = refl
    and-none false = refl

    and-all : (q : Bool) → (q && true) ≡ q
    and-all true = refl
    and-all false = refl

    go : (q h : Bool) → (q ≡ true → h ≡ true) → ArePartedTests (h && not q) q h
    go true h f = record { both = λ e. (and-none h, f e); one = λ e. absurd (cc) }
    go false h f = record { both = λ e. absurd (cc); one = λ e. and-all h }

-- ---- one line in the two turns, where these are the line after the rename and the line before it

pub differ-line : (q : Bool) (x l : LocatedLine) (cs : List Bool) (olds news : List LocatedLine) → (q ≡ true → IsPlain l × IsPlain x) → DifferWhereChosen cs olds news → DifferWhereChosen (q ∷ cs) (l ∷ olds) (line_where q x l ∷ news)
differ-line true x l cs olds news f i = let p = f refl in (p.0, p.1, i)
differ-line false x l cs olds news f i = (refl, i)

pub differ-again : (p q h : Bool) (x l : LocatedLine) (cs : List Bool) (olds news : List LocatedLine) → ArePartedTests p q h → (h ≡ true → IsPlain l × IsPlain x) → DifferWhereChosen cs olds news
    → DifferWhereChosen (q ∷ cs) (line_where p x l ∷ olds) (line_where h x l ∷ news)
differ-again p true h x l cs olds news T f i =
    let b = T.both refl in
    let w = f b.1 in
    let old : IsPlain (line_where p x l) = subst (λ z. IsPlain (line_where z x l)) (sym b.0) w.0 in
    let new : IsPlain (line_where h x l) = subst (λ z. IsPlain (line_where z x l)) (sym b.1) w.1 in
    (old, new, i)
differ-again p false h x l cs olds news T f i = (ap (λ z. line_where z x l) (T.one refl), i)

pub shorter-line : (p : Bool) (x l : LocatedLine) → (p ≡ true → length x.bytes ≤ length l.bytes) → length (line_where p x l).bytes ≤ length l.bytes
shorter-line true x l f = f refl
shorter-line false x l f = omega arith

pub longer-line : (p q h : Bool) (x l : LocatedLine) → ArePartedTests p q h → (q ≡ true → length l.bytes ≤ length x.bytes) → length (line_where p x l).bytes ≤ length (line_where h x l).bytes
longer-line p true h x l T f =
    let b = T.both refl in
    let old : length (line_where p x l).bytes ≡ length l.bytes = ap (λ z. length (line_where z x l).bytes) b.0 in
    let new : length (line_where h x l).bytes ≡ length x.bytes = ap (λ z. length (line_where z x l).bytes) b.1 in
    omega (arith, old, new, f refl)
longer-line p false h x l T f = let e : length (line_where p x l).bytes ≡ length (line_where h x l).bytes = ap (λ z. length (line_where z x l).bytes) (T.one refl) in omega (arith, e)

pub one-of_two : (p q h : Bool) → ArePartedTests p q h → (if p then 1 else 0) + (if q then 1 else 0) ≡ (if h then 1 else 0)
one-of_two p true h T =
    let b = T.both refl in
    ap (λ z. (if z then 1 else 0) + 1) b.0 ∙ ap (λ z. if z then 1 else 0) (sym b.1)
one-of_two p false h T = plus (if p then 1 else 0) ∙ ap (λ z. if z then 1 else 0) (T.one refl)
  where
    plus : (m : ℕ) → m + 0 ≡ m
    plus m = omega arith

-- ---- all lines

module _ (o n : List ℕ) where
  abbrev first : LocatedLine → Bool
  first = is_exchanged turn.NoLonger o n

  abbrev second : LocatedLine → Bool
  second = is_exchanged turn.Longer o n

  line-parted : (l : LocatedLine) → ArePartedTests (first l) (second l) (holds_word o l)
  line-parted l = parted (length (renamed_ranges o l)) (bytes_in (renamed_ranges o l)) (length n) (exchanged-holds turn.Longer o n l)

  -- the first turn changes the lines that it exchanges alone, and makes none longer
  first-differ : (c : Context) (ls : List LocatedLine) → CanEachBeRenamed o n c ls → DifferWhereChosen (map first ls) ls (renamed_where first o n c ls)
  first-differ c [] C = tt
  first-differ c (l ∷ ls) C =
      differ-line (first l) (line_renamed o n c l) l (map first ls) ls (renamed_where first o n (context_after_located c l.class) ls) (λ e. C.0.plain (exchanged-holds turn.NoLonger o n l e))
      (first-differ (context_after_located c l.class) ls C.1)

  first-shorter : (c : Context) (ls : List LocatedLine) → CanEachBeRenamed o n c ls → AreNoLonger (renamed_where first o n c ls) ls
  first-shorter c [] C = tt
  first-shorter c (l ∷ ls) C =
      (shorter-line (first l) (line_renamed o n c l) l (exchanged-no_longer o n c l C.0), first-shorter (context_after_located c l.class) ls C.1)

  -- the second turn changes only the lines that it exchanges, makes none shorter, and leaves all lines that hold the word renamed
  second-differ : (c : Context) (ls : List LocatedLine) → CanEachBeRenamed o n c ls → DifferWhereChosen (map second ls) (renamed_where first o n c ls) (renamed_where (holds_word o) o n c ls)
  second-differ c [] C = tt
  second-differ c (l ∷ ls) C =
      differ-again (first l) (second l) (holds_word o l) (line_renamed o n c l) l (map second ls) (renamed_where first o n (context_after_located c l.class) ls) (renamed_where (holds_word o) o n (context_after_located c l.class) ls)
      (line-parted l) C.0.plain (second-differ (context_after_located c l.class) ls C.1)

  second-longer : (c : Context) (ls : List LocatedLine) → CanEachBeRenamed o n c ls → AreNoLonger (renamed_where first o n c ls) (renamed_where (holds_word o) o n c ls)
  second-longer c [] C = tt
  second-longer c (l ∷ ls) C =
      (longer-line (first l) (second l) (holds_word o l) (line_renamed o n c l) l (line-parted l) (exchanged-longer o n c l C.0), second-longer (context_after_located c l.class) ls C.1)

  -- each line that holds the word is exchanged in exactly one of the two turns
  turns-number : (ls : List LocatedLine) → exchanged_count turn.NoLonger o n ls + exchanged_count turn.Longer o n ls ≡ length (filter (holds_word o) ls)
  turns-number [] = refl
  turns-number (l ∷ ls) =
      omega (
        arith,
        filter-step first l ls,
        filter-step second l ls,
        filter-step (holds_word o) l ls,
        one-of_two (first l) (second l) (holds_word o l) (line-parted l),
        turns-number ls,
      )

  -- The moves of both turns lead to the lines after the rename.
  turns-lead : (ls : List LocatedLine) → CanEachBeRenamed o n start ls → size_of ls ≤ max_text → size_of (renamed_where (holds_word o) o n start ls) ≤ max_text → LeadTo (renaming_moves o n ls) ls (renamed_where (holds_word o) o n start ls)
  turns-lead ls C few_old few_new =
      let middle = renamed_where first o n start ls in
      let after = renamed_where (holds_word o) o n start ls in
      let m1 : exchanges 0 (map first ls) middle ≡ turn_moves turn.NoLonger o n ls = turn-exchanges turn.NoLonger o n first (λ l e. e) 0 start ls in
      let m2 : exchanges 0 (map second ls) after ≡ turn_moves turn.Longer o n ls = turn-exchanges turn.Longer o n (holds_word o) (exchanged-holds turn.Longer o n) 0 start ls in
      let a : LeadTo (turn_moves turn.NoLonger o n ls) ls middle = subst (λ z. LeadTo z ls middle) m1 (exchanges-lead (map first ls) ls middle (first-differ start ls C) (within-shrunk ls middle (first-shorter start ls C) few_old)) in
      let b : LeadTo (turn_moves turn.Longer o n ls) middle after =
      subst (λ z. LeadTo z middle after) m2 (exchanges-lead (map second ls) middle after (second-differ start ls C) (within-grown middle after (second-longer start ls C) few_new)) in
      let A = turn_moves turn.NoLonger o n ls in
      let B = turn_moves turn.Longer o n ls in
      record {
        fit = fit-append A B ls a.fit (subst (FitMoves B) (sym a.lead) b.fit);
        lead = after_moves-append A B ls ∙ (ap (after_moves B) a.lead ∙ b.lead);
      }

  -- the moves hold as many lines as hold the word, and take out as many
  turns-held : (ls : List LocatedLine) → CanEachBeRenamed o n start ls → held_by (renaming_moves o n ls) ≡ length (filter (holds_word o) ls)
  turns-held ls C =
      let middle = renamed_where first o n start ls in
      let after = renamed_where (holds_word o) o n start ls in
      let m1 = turn-exchanges turn.NoLonger o n first (λ l e. e) 0 start ls in
      let m2 = turn-exchanges turn.Longer o n (holds_word o) (exchanged-holds turn.Longer o n) 0 start ls in
      let h1 = exchanges-held_chosen 0 (map first ls) ls middle (first-differ start ls C) in
      let h2 = exchanges-held_chosen 0 (map second ls) middle after (second-differ start ls C) in
      omega (
        arith,
        held_by-append (turn_moves turn.NoLonger o n ls) (turn_moves turn.Longer o n ls),
        ap held_by m1,
        ap held_by m2,
        h1,
        h2,
        turn-number turn.NoLonger o n ls,
        turn-number turn.Longer o n ls,
        turns-number ls,
      )

  turns-taken : (ls : List LocatedLine) → CanEachBeRenamed o n start ls → taken_by (renaming_moves o n ls) ≡ length (filter (holds_word o) ls)
  turns-taken ls C =
      let middle = renamed_where first o n start ls in
      let after = renamed_where (holds_word o) o n start ls in
      let m1 = turn-exchanges turn.NoLonger o n first (λ l e. e) 0 start ls in
      let m2 = turn-exchanges turn.Longer o n (holds_word o) (exchanged-holds turn.Longer o n) 0 start ls in
      let h1 = exchanges-taken_chosen 0 (map first ls) ls middle (first-differ start ls C) in
      let h2 = exchanges-taken_chosen 0 (map second ls) middle after (second-differ start ls C) in
      omega (
        arith,
        taken_by-append (turn_moves turn.NoLonger o n ls) (turn_moves turn.Longer o n ls),
        ap taken_by m1,
        ap taken_by m2,
        h1,
        h2,
        turn-number turn.NoLonger o n ls,
        turn-number turn.Longer o n ls,
        turns-number ls,
      )

  -- the number of lines that hold the word is the rename's cost
  holding-number : (c : Context) (ls : List ClassedLine) → AreClassed c ls → length (filter (holds_word o) (located_lines ls)) ≡ length (filter (is_renamed o n) ls)
  holding-number c [] h = refl
  holding-number c (l ∷ ls) h =
      let one : Bool → ℕ = λ b. if b then 1 else 0 in
      omega (
        arith,
        filter-step (holds_word o) (located_line l) (located_lines ls),
        filter-step (is_renamed o n) l ls,
        ap one (holds-renamed c l o n (AreClassed-class c l ls h)),
        holding-number (context_after c l.class) ls (AreClassed-tail c l ls h),
      )

-- ---- the whole rename

-- What is known of a document and a rename that no cause refuses. Each line can be renamed where it stands. The number of lines
-- that are exchanged in the two turns is the rename's cost, and the moves of the two turns are what is planned.
pub record IsRenameTargetPlanned (o n : List ℕ) (ls : List LocatedLine) : Type 0 where
  pub can : CanEachBeRenamed o n start ls
  pub number : exchanged_count turn.NoLonger o n ls + exchanged_count turn.Longer o n ls ≡ length (filter (holds_word o) ls)
  pub costs : length (filter (holds_word o) ls) ≡ cost (located_text ls) (RenameTarget o n)
  pub planned : IsPlanned (RenameTarget o n) ls (renaming_moves o n ls)

pub rename_target-planned : (o n : List ℕ) (ls : List LocatedLine) → IsFaithful ls → size_of ls ≤ max_text → length ls ≤ size_of ls
    → first_cause (causes (located_text ls) (classed_lines (located_text ls)) (RenameTarget o n)) ≡ None → IsRenameTargetPlanned o n ls
rename_target-planned o n ls f few_bytes few h =
    let e = RenameTarget o n in
    let t = located_text ls in
    let before = classed_lines t in
    let after = classed_lines (text_after t e) in
    let rs = spans_of t before e in
    let spans_are : spans t e ≡ Ok rs = ap (λ (r : Option Refusal). unless_refused r rs) h in
    let K = rename_target-keeps o n t rs spans_are in
    let A = AreClassed-lines t before refl in
    let old_bytes : size_of (located_lines before) ≤ max_text = subst (λ (z : List LocatedLine). size_of z ≤ max_text) f few_bytes in
    let new_bytes : size_of (located_lines after) ≤ max_text = after-fits t e rs after spans_are refl in
    let low : start.defines + length before ≤ max_text = omega (arith, few, few_bytes, faithful-length ls before f refl) in
    let C = lines-can o n start before after A K.in_place old_bytes new_bytes low in
    let become = lines-become o n start before after A K.in_place in
    let L : LeadTo (renaming_moves o n (located_lines before)) (located_lines before) (located_lines after) =
    subst (LeadTo (renaming_moves o n (located_lines before)) (located_lines before)) become (turns-lead o n (located_lines before) C old_bytes (subst (λ (z : List LocatedLine). size_of z ≤ max_text) (sym become) new_bytes)) in
    let can : CanEachBeRenamed o n start ls = subst (CanEachBeRenamed o n start) (sym f) C in
    let costs : length (filter (holds_word o) ls) ≡ cost t e = ap (λ (z : List LocatedLine). length (filter (holds_word o) z)) f ∙ holding-number o n start before A in
    record {
      can = can;
      number = turns-number o n ls;
      costs = costs;
      planned =
          lead-planned e ls rs (renaming_moves o n ls) before after f spans_are refl refl (subst (λ (z : List LocatedLine). LeadTo (renaming_moves o n z) (located_lines before) (located_lines after)) (sym f) L)
          (omega (arith, turns-held o n ls can, costs)) (omega (arith, turns-taken o n ls can, costs));
    }
