-- What a walk over the lines of windows finds for a block: how many runs there are, and the run of a number.
use Rattle.std.proofs.Common.{◌≡◌, refl, sym, ap, ◌∙◌, subst, arith, ℕ, zero, suc, ◌+◌, ◌-◌, ◌<◌, ◌≤◌, List, [], ◌∷◌, ◌++◌, map, if◌then◌else◌, length, length-append, take, drop, get_or, append_assoc, append-nil, Option, Some, None, option_map}
use Rattle.std.specs.Prelude.{IfSome, MatchOption}
use Rattle.std.proofs.lemmas.Bool.{ne_eqb, eq-eqb}
use Rattle.std.proofs.lemmas.List.{drop-drop, length-drop, length-map, take-append-drop}
use Rattle.std.proofs.Math.Seq.{take-append_seam, drop-append_seam}
use Rattle.mk_class.specs.Contexts.{Context, start, context_after_located}
use Rattle.mk_class.specs.ClassedLines.{ClassedLine, classed_lines}
use Rattle.mk_tree.specs.Documents.{IsFaithful, context_of}
use Rattle.mk_tree.specs.LocatedLines.{LocatedLine, located_line, located_lines, located_text}
use Rattle.mk_tree.specs.Admissions.{AreAdmitted}
use Rattle.mk_tree.specs.Origins.{lines_between}
use Rattle.mk_tree.proofs.AdmissionLemmas.{drop-step}
use Rattle.mk_edit_language.specs.Spots.{nth_of}
use Rattle.mk_edit_language.specs.Stretches.{Stretch}
use Rattle.mk_edit_language.specs.LineRuns.{block_lines, runs}
use Rattle.mk_edit_language.proofs.on_line_runs.SitesFound.{nth-stretch, runs-stretches}
use Rattle.mk_edit_parts.specs.Found.{IsPlaceOf}
use Rattle.mk_edit_parts.specs.LineRunsFound.{IsRunAt, AreRunMatches}
use Rattle.mk_edit_parts.specs.LineRunWalks.{run_length, with_run, with_runs}
use Rattle.mk_edit_parts.specs.Seeking.{wanted_of}
use Rattle.mk_edit_parts.specs.Windows.{AreWindows, NonePasses, below, below_all, first_place, says_first}
use Rattle.mk_edit_parts.specs.declared.seek.Found.{Found}
use Rattle.mk_edit_parts.specs.declared.line_run.RunMatches.{RunMatches}
use Rattle.mk_edit_parts.specs.declared.window.Window.{Window}
use Rattle.mk_edit_parts.proofs.on_finding.SeekLemmas.{nth-map}
use Rattle.mk_edit_parts.proofs.on_finding.WindowLemmas.{AreAhead, ahead-first, ahead-next, below_all-at, left-at}
use Rattle.mk_edit_parts.proofs.on_line_runs.FilledLines.{AreFilled, filled-faithful, filled-from, filled-front}
use Rattle.mk_edit_parts.proofs.on_line_runs.RunLengths.{length-unlike}
use Rattle.mk_edit_parts.proofs.on_line_runs.RunWindows.{before_windows, windows_from, window_from, windows-runs}

-- nothing is found
abbrev no_runs : RunMatches
no_runs = record { count = 0; found = None }

-- what is found with some more runs
abbrev with_windows : (wanted : ℕ) → RunMatches → List Window → RunMatches
with_windows w m [] = m
with_windows w m (x ∷ xs) = with_windows w (with_run w x.place (Some x.count) m) xs

-- ---- how many, and which

with-count : (w : ℕ) (m : RunMatches) (xs : List Window) → (with_windows w m xs).count ≡ m.count + length xs
with-count w m [] = omega arith
with-count w m (x ∷ xs) = omega (arith, with-count w (with_run w x.place (Some x.count) m) xs)

-- once the wanted one is found, or passed, what is found stays
with-passed : (w : ℕ) (m : RunMatches) (xs : List Window) → w ≤ m.count → (with_windows w m xs).found ≡ m.found
with-passed w m [] h = refl
with-passed w m (x ∷ xs) h =
    with-passed w (with_run w x.place (Some x.count) m) xs (omega (arith, h)) ∙ ap (λ b. if b then Some x else m.found) (ne_eqb (m.count + 1) w (λ e. absurd (omega (arith, e, h))))

-- the wanted one is that of its number among the runs that are ahead
with-ahead : (w : ℕ) (xs : List Window) (k : ℕ) (m : RunMatches) → w ≡ m.count + suc k → m.found ≡ None → (with_windows w m xs).found ≡ nth_of (suc k) xs
with-ahead w [] k m e h = h
with-ahead w (x ∷ xs) zero m e h =
    with-passed w (with_run w x.place (Some x.count) m) xs (omega (arith, e)) ∙ ap (λ b. if b then Some x else m.found) (eq-eqb (m.count + 1) w (omega (arith, e)))
with-ahead w (x ∷ xs) (suc k) m e h =
    with-ahead w xs k (with_run w x.place (Some x.count) m) (omega (arith, e)) (ap (λ b. if b then Some x else m.found) (ne_eqb (m.count + 1) w (λ i. absurd (omega (arith, i, e)))) ∙ h)

nth-zero : {A : Type 0} (xs : List A) → None ≡ nth_of 0 xs
nth-zero [] = refl
nth-zero (x ∷ xs) = refl

with-found : (w : ℕ) (xs : List Window) → (with_windows w no_runs xs).found ≡ nth_of w xs
with-found zero xs = with-passed zero no_runs xs (omega arith) ∙ nth-zero xs
with-found (suc k) xs = with-ahead (suc k) xs k no_runs (omega arith) refl

-- ---- the runs of a faithful document

-- the lines of a faithful document are as many as those of its text
pub length-faithful : (d : List LocatedLine) → IsFaithful d → length d ≡ length (classed_lines (located_text d))
length-faithful d f = ap length f ∙ length-map (classed_lines (located_text d)) located_line

run-at : (ls : List ClassedLine) (b : List (List ℕ)) (w : ℕ) (o : Option Stretch) → nth_of w (runs b ls) ≡ o
    → MatchOption (option_map (window_from first_place) o) (nth_of w (runs b ls) ≡ None) (λ (x : Window). IsRunAt ls b w x)
run-at ls b w None e = e
run-at ls b w (Some s) e =
    let n : length s.above ≡ 0 + length s.above = omega arith in
    record { run = s; run_is = e; stretch = nth-stretch ls w (runs b ls) s (runs-stretches b ls) e; place_is = n; context_is = refl; count_is = refl }

matches-of : (ls : List ClassedLine) (b : List (List ℕ)) (nth : Option ℕ) → AreRunMatches ls b nth (with_windows (wanted_of nth) no_runs (windows_from b first_place (located_lines ls)))
matches-of ls b nth =
    let w = wanted_of nth in
    let rs = runs b ls in
    let ws = map (window_from first_place) rs in
    let found : (with_windows w no_runs ws).found ≡ option_map (window_from first_place) (nth_of w rs) = with-found w ws ∙ nth-map (window_from first_place) w rs in
    let count : (with_windows w no_runs ws).count ≡ length rs = with-count w no_runs ws ∙ omega (arith, length-map rs (window_from first_place)) in
    subst (λ (z : List Window). AreRunMatches ls b nth (with_windows w no_runs z)) (sym (windows-runs b first_place ls))
    (record {
      count_is = count;
      found_is = subst (λ (o : Option Window). MatchOption o (nth_of w rs ≡ None) (λ (x : Window). IsRunAt ls b w x)) (sym found) (run-at ls b w (nth_of w rs) refl);
    })

-- ---- the walk over some lines

counts : (w : ℕ) (f : Found) (o : Option ℕ) (m : RunMatches) → (with_run w f o m).count ≤ m.count + 1
counts w f None m = omega arith
counts w f (Some n) m = omega arith

-- no more runs are counted than lines were passed
runs-few : (b : List (List ℕ)) (w : ℕ) (f : Found) (ls after : List LocatedLine) (m : RunMatches) → (with_runs b w f ls after m).count ≤ m.count + length ls
runs-few b w f [] after m = omega arith
runs-few b w f (l ∷ ls) after m =
    let o = run_length b (l ∷ (ls ++ after)) in
    omega (arith, runs-few b w (below f l) ls after (with_run w f o m), counts w f o m)

runs-append : (b : List (List ℕ)) (w : ℕ) (f : Found) (xs ys after : List LocatedLine) (m : RunMatches) → with_runs b w f (xs ++ ys) after m ≡ with_runs b w (below_all f xs) ys after (with_runs b w f xs (ys ++ after) m)
runs-append b w f [] ys after m = refl
runs-append b w f (l ∷ xs) ys after m =
    ap (λ z. with_runs b w (below f l) (xs ++ ys) after (with_run w f (run_length b (l ∷ z)) m)) (append_assoc xs ys after)
    ∙ runs-append b w (below f l) xs ys after (with_run w f (run_length b (l ∷ (xs ++ (ys ++ after)))) m)

-- lines that do not begin as the block does
runs-gap : (u : List ℕ) (w : ℕ) (f : Found) (gap ls : List LocatedLine) (m : RunMatches) → AreFilled gap → NonePasses (says_first (block_lines u)) gap
    → with_runs (block_lines u) w f (gap ++ ls) [] m ≡ with_runs (block_lines u) w (below_all f gap) ls [] m
runs-gap u w f [] ls m h k = refl
runs-gap u w f (l ∷ gap) ls m h k =
    ap (λ o. with_runs (block_lines u) w (below f l) (gap ++ ls) [] (with_run w f o m)) (length-unlike u l ((gap ++ ls) ++ []) h.0 k.0)
    ∙ runs-gap u w (below f l) gap ls m h.1 k.1

one-run : (w : ℕ) (f : Found) (o : Option ℕ) (m : RunMatches) (rest : List Window) → with_windows w (with_run w f o m) rest ≡ with_windows w m (before_windows f o rest)
one-run w f None m rest = refl
one-run w f (Some n) m rest = refl

runs-windows : (b : List (List ℕ)) (w : ℕ) (f : Found) (ls : List LocatedLine) (m : RunMatches) → with_runs b w f ls [] m ≡ with_windows w m (windows_from b f ls)
runs-windows b w f [] m = refl
runs-windows b w f (l ∷ ls) m =
    let o = run_length b (l ∷ ls) in
    ap (λ z. with_runs b w (below f l) ls [] (with_run w f (run_length b (l ∷ z)) m)) (append-nil ls)
    ∙ (runs-windows b w (below f l) ls (with_run w f o m) ∙ one-run w f o m (windows_from b (below f l) ls))

-- ---- the lines of one window

-- What a walk has found after some lines of a window, with what it will find of the others, is what it finds of the window.
pub record IsMatchedTo (b : List (List ℕ)) (w : ℕ) (d : List LocatedLine) (x : Window) (before now : RunMatches) (passed : ℕ) (place : Found) (ahead : List LocatedLine) : Type 0 where
  pub here : drop place.at d ≡ ahead
  pub at_is : place.at ≡ x.place.at + passed
  pub admitted : AreAdmitted place.context ahead
  pub few : now.count ≤ place.at
  pub number : place.at + length ahead ≡ length d
  pub matched : with_runs b w place (take (x.count - passed) ahead) (drop (x.count - passed) ahead) now ≡ with_runs b w x.place (lines_between x.place.at x.count d) (drop (x.place.at + x.count) d) before

pub matched-first : (b : List (List ℕ)) (w : ℕ) (d : List LocatedLine) (x : Window) (m : RunMatches) (ahead : List LocatedLine) → x.place.at + x.count ≤ length d → AreAdmitted x.place.context (drop x.place.at d) → m.count ≤ x.place.at → ahead ≡ drop x.place.at d
    → IsMatchedTo b w d x m m 0 x.place ahead
matched-first b w d x m ahead n h few e = record {
  here = sym e;
  at_is = omega arith;
  admitted = subst (AreAdmitted x.place.context) (sym e) h;
  few = few;
  number = omega (arith, n, ap length e, length-drop x.place.at d);
  matched =
      let all : x.count - 0 ≡ x.count = omega arith in
      ap (λ n. with_runs b w x.place (take n ahead) (drop n ahead) m) all
      ∙ (ap (λ z. with_runs b w x.place (take x.count z) (drop x.count z) m) e ∙ ap (λ z. with_runs b w x.place (lines_between x.place.at x.count d) z m) (drop-drop x.count x.place.at d));
}

-- one line on
pub matched-on : (b : List (List ℕ)) (w : ℕ) (d : List LocatedLine) (x : Window) (before now next : RunMatches) (passed : ℕ) (place after : Found) (ahead left : List LocatedLine) (l : LocatedLine) (o : Option ℕ)
    → IsMatchedTo b w d x before now passed place ahead → passed < x.count → ahead ≡ l ∷ left → o ≡ run_length b (l ∷ drop (place.at + 1) d) → next ≡ with_run w place o now → after.at ≡ place.at + 1 → after.context ≡ context_after_located place.context l.class
    → IsMatchedTo b w d x before next (passed + 1) after left
matched-on b w d x before now next passed place after ahead left l o M more e r s at context =
    let f : after ≡ below place l = ap (λ (n : ℕ). record { at = n; context = after.context }) at ∙ ap (λ (z : Context). record { at = place.at + 1; context = z }) context in
    let k = x.count - (passed + 1) in
    let here : drop place.at d ≡ l ∷ left = M.here ∙ e in
    let on : drop (place.at + 1) d ≡ left = drop-step d left l place.at here in
    let admitted : AreAdmitted place.context (l ∷ left) = subst (AreAdmitted place.context) e M.admitted in
    let left_is : x.count - passed ≡ suc k = omega arith in
    let run : o ≡ run_length b (l ∷ (take k left ++ drop k left)) = r ∙ ap (λ z. run_length b (l ∷ z)) (on ∙ sym (take-append-drop k left)) in
    let step : with_runs b w place (take (x.count - passed) ahead) (drop (x.count - passed) ahead) now ≡ with_runs b w (below place l) (take k left) (drop k left) (with_run w place o now) =
    ap (λ n. with_runs b w place (take n ahead) (drop n ahead) now) left_is
    ∙ (ap (λ z. with_runs b w place (take (suc k) z) (drop (suc k) z) now) e
    ∙ ap (λ q. with_runs b w (below place l) (take k left) (drop k left) (with_run w place q now)) (sym run)) in
    let own : with_runs b w after (take k left) (drop k left) next ≡ with_runs b w (below place l) (take k left) (drop k left) (with_run w place o now) =
    ap (λ (z : Found). with_runs b w z (take k left) (drop k left) next) f ∙ ap (λ (z : RunMatches). with_runs b w (below place l) (take k left) (drop k left) z) s in
    record {
      here = ap (λ n. drop n d) at ∙ on;
      at_is = omega (arith, at, M.at_is);
      admitted = subst (λ (z : Found). AreAdmitted z.context left) (sym f) admitted.1;
      few = omega (arith, at, M.few, ap (λ (z : RunMatches). z.count) s, counts w place o now);
      number = omega (arith, at, M.number, ap length e);
      matched = own ∙ (sym step ∙ M.matched);
    }

-- at the end of the window
pub matched-all : (b : List (List ℕ)) (w : ℕ) (d : List LocatedLine) (x : Window) (before now : RunMatches) (passed : ℕ) (place : Found) (ahead : List LocatedLine) → x.count ≤ passed → IsMatchedTo b w d x before now passed place ahead
    → now ≡ with_runs b w x.place (lines_between x.place.at x.count d) (drop (x.place.at + x.count) d) before
matched-all b w d x before now passed place ahead past M =
    let none : 0 ≡ x.count - passed = omega arith in
    ap (λ n. with_runs b w place (take n ahead) (drop n ahead) now) none ∙ M.matched

-- ---- the windows

-- A walk over windows, some of which are ahead: what it has found, with what it will find of the lines ahead, is what it finds
-- of the whole document.
pub record AreMatched (u : List ℕ) (w : ℕ) (d : List LocatedLine) (m : RunMatches) (ws : List Window) : Type 0 where
  pub place : Found
  pub rest : List LocatedLine
  pub ahead : AreAhead (says_first (block_lines u)) d place rest ws
  pub filled : AreFilled d
  pub few : m.count ≤ place.at
  pub matched : with_runs (block_lines u) w place rest [] m ≡ with_runs (block_lines u) w first_place d [] no_runs

pub matched-start : (u : List ℕ) (w : ℕ) (d : List LocatedLine) (ws : List Window) → IsFaithful d → AreAdmitted start d → AreWindows (says_first (block_lines u)) first_place d ws → AreMatched u w d no_runs ws
matched-start u w d ws f h k = record {
  place = first_place;
  rest = d;
  ahead = ahead-first (says_first (block_lines u)) d ws h k;
  filled = filled-faithful d f;
  few = omega arith;
  matched = refl;
}

-- what the next window asks, and the walk after it
pub record AreMatchedInto (u : List ℕ) (w : ℕ) (d : List LocatedLine) (m : RunMatches) (x : Window) (ws : List Window) : Type 0 where
  pub in_range : x.place.at + x.count ≤ length d
  pub admitted : AreAdmitted x.place.context (drop x.place.at d)
  pub few : m.count ≤ x.place.at
  pub next : (n : RunMatches) → n ≡ with_runs (block_lines u) w x.place (lines_between x.place.at x.count d) (drop (x.place.at + x.count) d) m → AreMatched u w d n ws

matched-into : (u : List ℕ) (w : ℕ) (d : List LocatedLine) (m : RunMatches) (x : Window) (ws : List Window) → AreMatched u w d m (x ∷ ws) → AreMatchedInto u w d m x ws
matched-into u w d m x ws W =
    let b = block_lines u in
    let A = ahead-next (says_first b) d W.place W.rest x ws W.ahead in
    let filled : AreFilled A.above = filled-front A.above (A.inside ++ A.after) (subst AreFilled (W.ahead.rest_is ∙ A.lines_are) (filled-from W.place.at d W.filled)) in
    let after : drop (x.place.at + x.count) d ≡ A.after = ap (λ n. drop (x.place.at + n) d) A.count_is ∙ (sym (drop-drop (length A.inside) x.place.at d) ∙ (ap (drop (length A.inside)) A.from_is ∙ drop-append_seam A.inside A.after)) in
    let found : RunMatches = with_runs b w x.place A.inside A.after m in
    let over : with_runs b w (below_all x.place A.inside) A.after [] found ≡ with_runs b w first_place d [] no_runs =
    ap (λ z. with_runs b w (below_all x.place A.inside) A.after [] (with_runs b w x.place A.inside z m)) (sym (append-nil A.after))
    ∙ (sym (runs-append b w x.place A.inside A.after [] m)
    ∙ (ap (λ (z : Found). with_runs b w z (A.inside ++ A.after) [] m) A.place_is
    ∙ (sym (runs-gap u w W.place A.above (A.inside ++ A.after) m filled A.none_passes)
    ∙ (ap (λ z. with_runs b w W.place z [] m) (sym A.lines_are) ∙ W.matched)))) in
    record {
      in_range = A.in_range;
      admitted = A.admitted;
      few = omega (arith, W.few, A.lower);
      next = λ n e.
          let is : n ≡ found = e ∙ (ap (λ z. with_runs b w x.place z (drop (x.place.at + x.count) d) m) A.inside_is ∙ ap (λ z. with_runs b w x.place A.inside z m) after) in
          rw is (record {
            place = below_all x.place A.inside;
            rest = A.after;
            ahead = A.next;
            filled = W.filled;
            few = omega (arith, W.few, A.lower, below_all-at x.place A.inside, runs-few b w x.place A.inside A.after m);
            matched = over;
          });
    }

-- the window at an index
pub matched-at : (u : List ℕ) (w : ℕ) (d : List LocatedLine) (m : RunMatches) (ws : List Window) (i : ℕ) (x : Window) → i < length ws → x ≡ get_or ws i x → AreMatched u w d m (drop i ws) → AreMatchedInto u w d m x (drop (i + 1) ws)
matched-at u w d m ws i x h e W = matched-into u w d m x (drop (i + 1) ws) (subst (AreMatched u w d m) (left-at ws i x h e) W)

-- at the end
pub matched-over : (u : List ℕ) (nth : Option ℕ) (w : ℕ) (d : List LocatedLine) (m : RunMatches) (ws : List Window) → ws ≡ [] → w ≡ wanted_of nth → IsFaithful d → AreMatched u w d m ws → AreRunMatches (classed_lines (located_text d)) (block_lines u) nth m
matched-over u nth w d m ws e h f W =
    let b = block_lines u in
    let ls = classed_lines (located_text d) in
    let none : W.rest ≡ [] = subst (λ z. AreWindows (says_first b) W.place W.rest z) e W.ahead.windows in
    let all : m ≡ with_windows w no_runs (windows_from b first_place d) = sym (ap (λ z. with_runs b w W.place z [] m) none) ∙ (W.matched ∙ runs-windows b w first_place d no_runs) in
    let own : m ≡ with_windows (wanted_of nth) no_runs (windows_from b first_place (located_lines ls)) =
    all ∙ (ap (λ z. with_windows z no_runs (windows_from b first_place d)) h ∙ ap (λ z. with_windows (wanted_of nth) no_runs (windows_from b first_place z)) f) in
    subst (AreRunMatches ls b nth) (sym own) (matches-of ls b nth)

-- ---- what is found stands in the document

run-within : (d : List LocatedLine) (b : List (List ℕ)) (k : ℕ) (w : Window) → IsFaithful d → IsRunAt (classed_lines (located_text d)) b k w → w.place.at + w.count ≤ length d
run-within d b k w f R =
    let s = R.run in
    omega (arith, length-faithful d f, ap length R.stretch, length-append s.above (s.lines ++ s.below), length-append s.lines s.below, R.place_is, R.count_is)

run-place : (d : List LocatedLine) (b : List (List ℕ)) (k : ℕ) (w : Window) → IsRunAt (classed_lines (located_text d)) b k w → IsPlaceOf d w.place
run-place d b k w R =
    let s = R.run in
    ap (λ n. context_of (take n (classed_lines (located_text d)))) (sym R.place_is)
    ∙ (ap (λ ls. context_of (take (length s.above) ls)) R.stretch ∙ (ap context_of (take-append_seam s.above (s.lines ++ s.below)) ∙ R.context_is))

pub found-within : (d : List LocatedLine) (b : List (List ℕ)) (nth : Option ℕ) (m : RunMatches) → IsFaithful d → AreRunMatches (classed_lines (located_text d)) b nth m → IfSome m.found (λ (w : Window). w.place.at + w.count ≤ length d)
found-within d b nth m f A = go m.found A.found_is
  where
    go : (o : Option Window) → MatchOption o (nth_of (wanted_of nth) (runs b (classed_lines (located_text d))) ≡ None) (λ (w : Window). IsRunAt (classed_lines (located_text d)) b (wanted_of nth) w) → IfSome o (λ (w : Window). w.place.at + w.count ≤ length d)
    go None h = tt
    go (Some w) h = run-within d b (wanted_of nth) w f h

pub found-place : (d : List LocatedLine) (b : List (List ℕ)) (nth : Option ℕ) (m : RunMatches) → AreRunMatches (classed_lines (located_text d)) b nth m → IfSome m.found (λ (w : Window). IsPlaceOf d w.place)
found-place d b nth m A = go m.found A.found_is
  where
    go : (o : Option Window) → MatchOption o (nth_of (wanted_of nth) (runs b (classed_lines (located_text d))) ≡ None) (λ (w : Window). IsRunAt (classed_lines (located_text d)) b (wanted_of nth) w) → IfSome o (λ (w : Window). IsPlaceOf d w.place)
    go None h = tt
    go (Some w) h = run-place d b (wanted_of nth) w h
