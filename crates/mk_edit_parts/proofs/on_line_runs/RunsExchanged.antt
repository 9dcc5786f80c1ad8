-- Whether the runs that a number leaves lie within runs for another block.
use Rattle.std.proofs.Common.{◌≡◌, refl, sym, ap, ◌∙◌, subst, arith, ℕ, zero, suc, ◌+◌, ◌<◌, ◌==◌, ◌&&◌, ◌||◌, not, Bool, true, false, List, [], ◌∷◌, map, length, Option, Some, None, option_map, eqb-true}
use Rattle.std.specs.Prelude.{is_some, nat_le, MatchOption, option_and_then}
use Rattle.std.specs.List.{list_any}
use Rattle.std.proofs.lemmas.Bool.{leb-true, lt-leb}
use Rattle.mk_lines.specs.Lists.{Each}
use Rattle.mk_class.specs.ListTests.{is_empty}
use Rattle.mk_class.specs.ClassedLines.{ClassedLine}
use Rattle.mk_edit_language.specs.Spots.{nth_of}
use Rattle.mk_edit_language.specs.Stretches.{Stretch}
use Rattle.mk_edit_language.specs.LineRuns.{texts_of, after_texts, block_lines, led_by, lower, run_in_front, before_runs, runs, is_in_run}
use Rattle.mk_edit_parts.specs.LineRunsFound.{IsRunAt, AreRunMatches, numbered}
use Rattle.mk_edit_parts.specs.Seeking.{wanted_of}
use Rattle.mk_edit_parts.specs.declared.line_run.RunMatches.{RunMatches}
use Rattle.mk_edit_parts.specs.declared.window.Window.{Window}
use Rattle.mk_edit_parts.proofs.on_line_runs.BlockTexts.{block-front}
use Rattle.mk_edit_parts.proofs.on_line_runs.RunsCovered.{is_inside}

-- whether each of some stretches lies within a run
abbrev pub each_in_run : (new : List (List ℕ)) → List ClassedLine → List Stretch → Bool
each_in_run t ls ss = not (list_any (λ s. not (is_in_run t ls s)) ss)

-- what is found, by the number that is given
found-none : (ls : List ClassedLine) (b : List (List ℕ)) (nth : Option ℕ) (m : RunMatches) → AreRunMatches ls b nth m → m.found ≡ None → nth_of (wanted_of nth) (runs b ls) ≡ None
found-none ls b nth m A h = subst (λ (o : Option Window). MatchOption o (nth_of (wanted_of nth) (runs b ls) ≡ None) (λ (w : Window). IsRunAt ls b (wanted_of nth) w)) h A.found_is

found-one : (ls : List ClassedLine) (b : List (List ℕ)) (nth : Option ℕ) (m : RunMatches) (w : Window) → AreRunMatches ls b nth m → m.found ≡ Some w → IsRunAt ls b (wanted_of nth) w
found-one ls b nth m w A h = subst (λ (o : Option Window). MatchOption o (nth_of (wanted_of nth) (runs b ls) ≡ None) (λ (x : Window). IsRunAt ls b (wanted_of nth) x)) h A.found_is

-- ---- another block

-- no run is left
pub exchanged-none : (t b : List (List ℕ)) (ls : List ClassedLine) (nth : Option ℕ) (m : RunMatches) → AreRunMatches ls b nth m → m.found ≡ None → true ≡ each_in_run t ls (numbered nth (runs b ls))
exchanged-none t b ls nth m A h = go nth (runs b ls) (found-none ls b nth m A h)
  where
    go : (nth : Option ℕ) (rs : List Stretch) → nth_of (wanted_of nth) rs ≡ None → true ≡ each_in_run t ls (numbered nth rs)
    go None [] e = refl
    go None (s ∷ rs) e = absurd (cc)
    go (Some k) rs e = ap (λ (o : Option Stretch). each_in_run t ls (before_runs o [])) (sym e)

-- ---- no other block

none-lower : (l : ClassedLine) (ss : List Stretch) → Each (λ s. is_empty s.lines) ss → Each (λ s. is_empty s.lines) (map (lower l) ss)
none-lower l [] h = tt
none-lower l (s ∷ ss) h = (h.0, none-lower l ss h.1)

-- the runs for no lines have none
pub runs-none : (ls : List ClassedLine) → Each (λ s. is_empty s.lines) (runs [] ls)
runs-none [] = tt
runs-none (l ∷ ls) = (refl, none-lower l (runs [] ls) (runs-none ls))

-- a stretch that has a line does not lie within one that has none
pub nothing-around : (s : Stretch) (os : List Stretch) → 0 < length s.lines → Each (λ o. is_empty o.lines) os → list_any (λ o. is_inside o s) os ≡ false
nothing-around s [] n h = refl
nothing-around s (o ∷ os) n h = ap (λ q. q || list_any (λ o. is_inside o s) os) (outside o.lines h.0) ∙ nothing-around s os n h.1
  where
    first : (q : Bool) → nat_le (length o.above) (length s.above) ≡ q → (q && nat_le (length s.above + length s.lines) (length o.above + 0)) ≡ false
    first false e = refl
    first true e = lt-leb (length s.above + length s.lines) (length o.above + 0) (omega (arith, leb-true (length o.above) (length s.above) e, n))

    outside : (ls : List ClassedLine) → is_empty ls ≡ true → (nat_le (length o.above) (length s.above) && nat_le (length s.above + length s.lines) (length o.above + length ls)) ≡ false
    outside [] e = first (nat_le (length o.above) (length s.above)) refl
    outside (l ∷ ls) e = absurd (cc)

-- the runs for some lines have some
front-filled : (x : List ℕ) (b : List (List ℕ)) (ls : List ClassedLine) (s : Stretch) → run_in_front (x ∷ b) ls ≡ Some s → 0 < length s.lines
front-filled x b [] s h = absurd (cc)
front-filled x b (l ∷ ls) s h = go (after_texts (texts_of l.bytes) (x ∷ b)) h
  where
    longer : (o : Option Stretch) → option_map (led_by l) o ≡ Some s → 0 < length s.lines
    longer None e = absurd (cc)
    longer (Some r) e = let k : led_by l r ≡ s = cc in omega (arith, ap (λ (z : Stretch). length z.lines) k)

    go : (o : Option (List (List ℕ))) → option_and_then (λ rest. option_map (led_by l) (run_in_front rest ls)) o ≡ Some s → 0 < length s.lines
    go None e = absurd (cc)
    go (Some rest) e = longer (run_in_front rest ls) e

abbrev AreFilled : List Stretch → Type 0
AreFilled [] = Unit {0}
AreFilled (s ∷ ss) = (0 < length s.lines) × AreFilled ss

filled-lower : (l : ClassedLine) (ss : List Stretch) → AreFilled ss → AreFilled (map (lower l) ss)
filled-lower l [] h = tt
filled-lower l (s ∷ ss) h = (h.0, filled-lower l ss h.1)

runs-filled : (x : List ℕ) (b : List (List ℕ)) (ls : List ClassedLine) → AreFilled (runs (x ∷ b) ls)
runs-filled x b [] = tt
runs-filled x b (l ∷ ls) = go (run_in_front (x ∷ b) (l ∷ ls)) refl (filled-lower l (runs (x ∷ b) ls) (runs-filled x b ls))
  where
    go : (o : Option Stretch) → run_in_front (x ∷ b) (l ∷ ls) ≡ o → AreFilled (map (lower l) (runs (x ∷ b) ls)) → AreFilled (before_runs o (map (lower l) (runs (x ∷ b) ls)))
    go None e h = h
    go (Some s) e h = (front-filled x b (l ∷ ls) s e, h)

nth-filled : (n : ℕ) (ss : List Stretch) (s : Stretch) → AreFilled ss → nth_of n ss ≡ Some s → 0 < length s.lines
nth-filled n [] s h e = absurd (cc)
nth-filled zero (q ∷ ss) s h e = absurd (cc)
nth-filled (suc zero) (q ∷ ss) s h e = let k : q ≡ s = cc in subst (λ (z : Stretch). 0 < length z.lines) k h.0
nth-filled (suc (suc n)) (q ∷ ss) s h e = nth-filled (suc n) ss s h.1 e

-- a run that is left
pub exchanged-nothing : (u : List ℕ) (ls : List ClassedLine) (nth : Option ℕ) (m : RunMatches) (w : Window) → AreRunMatches ls (block_lines u) nth m → m.found ≡ Some w
    → false ≡ each_in_run [] ls (numbered nth (runs (block_lines u) ls))
exchanged-nothing u ls nth m w A h =
    let f = block-front u in
    let R = found-one ls (block_lines u) nth m w A h in
    let all : AreFilled (runs (block_lines u) ls) = subst (λ b. AreFilled (runs b ls)) (sym f.lines_are) (runs-filled f.first f.rest ls) in
    let filled = nth-filled (wanted_of nth) (runs (block_lines u) ls) R.run all R.run_is in
    go nth (runs (block_lines u) ls) R.run R.run_is (nothing-around R.run (runs [] ls) filled (runs-none ls))
  where
    go : (nth : Option ℕ) (rs : List Stretch) (s : Stretch) → nth_of (wanted_of nth) rs ≡ Some s → is_in_run [] ls s ≡ false → false ≡ each_in_run [] ls (numbered nth rs)
    go None [] s e out = absurd (cc)
    go None (q ∷ rs) s e out =
        let k : s ≡ q = cc in
        sym (ap (λ b. not (not b || list_any (λ z. not (is_in_run [] ls z)) rs)) (sym (ap (is_in_run [] ls) k) ∙ out))
    go (Some n) rs s e out = sym (ap (λ (o : Option Stretch). each_in_run [] ls (before_runs o [])) e ∙ ap (λ b. not (not b || false)) out)

-- ---- one run

-- whether one run is left: a number is given, or there is no other
pub exchanged-one : (t b : List (List ℕ)) (ls : List ClassedLine) (nth : Option ℕ) (m : RunMatches) (w : Window) (r : Bool) → AreRunMatches ls b nth m → m.found ≡ Some w → (is_some nth || (m.count == 1)) ≡ true
    → ((s : Stretch) → length s.above ≡ w.place.at → length s.lines ≡ w.count → r ≡ is_in_run t ls s) → r ≡ each_in_run t ls (numbered nth (runs b ls))
exchanged-one t b ls nth m w r A h one told =
    let R = found-one ls b nth m w A h in
    told R.run R.place_is R.count_is ∙ (twice (is_in_run t ls R.run) ∙ ap (each_in_run t ls) (sym (left nth (runs b ls) R.run (single nth one) R.run_is)))
  where
    twice : (q : Bool) → q ≡ not (not q || false)
    twice true = refl
    twice false = refl

    single : (nth : Option ℕ) → (is_some nth || (m.count == 1)) ≡ true → (nth ≡ None → length (runs b ls) ≡ 1)
    single None e i = sym A.count_is ∙ eqb-true m.count 1 e
    single (Some n) e i = absurd (cc)

    only : (rs : List Stretch) (s : Stretch) → length rs ≡ 1 → nth_of 1 rs ≡ Some s → rs ≡ s ∷ []
    only [] s n e = absurd (omega (arith, n))
    only (q ∷ []) s n e = let k : q ≡ s = cc in ap (λ (z : Stretch). z ∷ []) k
    only (q ∷ p ∷ rs) s n e = absurd (omega (arith, n))

    left : (nth : Option ℕ) (rs : List Stretch) (s : Stretch) → (nth ≡ None → length rs ≡ 1) → nth_of (wanted_of nth) rs ≡ Some s → numbered nth rs ≡ s ∷ []
    left None rs s n e = only rs s (n refl) e
    left (Some k) rs s n e = ap (λ (o : Option Stretch). before_runs o []) e
