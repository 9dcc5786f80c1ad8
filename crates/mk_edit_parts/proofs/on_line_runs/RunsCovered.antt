-- Whether lines of a document lie within a run for a block, as walks over the document see it.
use Rattle.std.proofs.Common.{◌≡◌, refl, sym, ap, ◌∙◌, arith, ℕ, zero, suc, ◌+◌, ◌-◌, ◌<◌, ◌≤◌, ◌&&◌, ◌||◌, zero-add, not, Bool, true, false, List, [], ◌∷◌, map, length, drop, Option, Some, None, option_map}
use Rattle.std.specs.Prelude.{max, nat_le, nat_lt, IfSome}
use Rattle.std.specs.List.{list_any}
use Rattle.std.proofs.lemmas.Bool.{and_left, and_right, ltb-true, ltb-false, leb-true, leb-false, lt-ltb, le-ltb, le-leb, lt-leb}
use Rattle.std.proofs.Math.Bool.{or_assoc}
use Rattle.mk_lines.specs.Limits.{max_text}
use Rattle.mk_class.specs.ClassedLines.{ClassedLine, classed_lines}
use Rattle.mk_tree.specs.Documents.{IsFaithful}
use Rattle.mk_tree.specs.LocatedLines.{LocatedLine, located_lines, located_text}
use Rattle.mk_tree.proofs.AdmissionLemmas.{drop-step}
use Rattle.mk_edit_language.specs.Stretches.{Stretch}
use Rattle.mk_edit_language.specs.LineRuns.{lower, run_in_front, before_runs, runs, is_in_run}
use Rattle.mk_edit_parts.specs.LineRunWalks.{run_length, holds, reached, is_reached}
use Rattle.mk_edit_parts.specs.Windows.{below, first_place}
use Rattle.mk_edit_parts.specs.declared.seek.Found.{Found}
use Rattle.mk_edit_parts.specs.declared.window.Window.{Window}
use Rattle.mk_edit_parts.proofs.on_line_runs.FilledLines.{AreFilled, filled-faithful}
use Rattle.mk_edit_parts.proofs.on_line_runs.RunLengths.{lines_in, length-front, length-most, front-above}
use Rattle.mk_edit_parts.proofs.on_line_runs.RunWindows.{before_windows, windows_from, window_from, windows-runs}

-- ---- tests

any-map : {A B : Type 0} (p : B → Bool) (f : A → B) (xs : List A) → list_any p (map f xs) ≡ list_any (λ x. p (f x)) xs
any-map p f [] = refl
any-map p f (x ∷ xs) = ap (λ b. p (f x) || b) (any-map p f xs)

any-same : {A : Type 0} (p q : A → Bool) (xs : List A) → ((x : A) → p x ≡ q x) → list_any p xs ≡ list_any q xs
any-same p q [] h = refl
any-same p q (x ∷ xs) h = ap (λ b. b || list_any p xs) (h x) ∙ ap (λ b. q x || b) (any-same p q xs h)

any-none : {A : Type 0} (p : A → Bool) (xs : List A) → ((x : A) → p x ≡ false) → list_any p xs ≡ false
any-none p [] h = refl
any-none p (x ∷ xs) h = ap (λ b. b || list_any p xs) (h x) ∙ any-none p xs h

or-nothing : (b : Bool) → (b || false) ≡ b
or-nothing true = refl
or-nothing false = refl

both-shifted : (a b c d : ℕ) → c ≡ a + 1 → d ≡ b + 1 → nat_le c d ≡ nat_le a b
both-shifted a b c d e i = go (nat_le a b) refl
  where
    go : (q : Bool) → nat_le a b ≡ q → nat_le c d ≡ q
    go true h = le-leb c d (omega (arith, e, i, leb-true a b h))
    go false h = lt-leb c d (omega (arith, e, i, leb-false a b h))

-- ---- one stretch

-- whether a stretch lies within another
abbrev pub is_inside : (outer inner : Stretch) → Bool
is_inside o i = holds (length o.above) (length i.above) (length i.above + length i.lines) (Some (length o.lines))

-- whether a run for a block holds a stretch from an index up to another, among lines the first of which stands at `start`
abbrev pub in_run_from : (block : List (List ℕ)) → (at end start : ℕ) → List LocatedLine → Bool
in_run_from b at end start [] = false
in_run_from b at end start (l ∷ ls) = holds start at end (run_length b (l ∷ ls)) || in_run_from b at end (start + 1) ls

-- one line on
pub in_run-on : (b : List (List ℕ)) (at end start : ℕ) (d left : List LocatedLine) (l : LocatedLine) (o : Option ℕ) → drop start d ≡ l ∷ left → o ≡ run_length b (l ∷ drop (start + 1) d)
    → in_run_from b at end start (l ∷ left) ≡ (holds start at end o || in_run_from b at end (start + 1) left)
in_run-on b at end start d left l o h e =
    let run : run_length b (l ∷ left) ≡ o = sym (e ∙ ap (λ z. run_length b (l ∷ z)) (drop-step d left l start h)) in
    ap (λ q. holds start at end q || in_run_from b at end (start + 1) left) run

-- a run that begins further down does not hold it
pub in_run-past : (b : List (List ℕ)) (at end start : ℕ) (ls : List LocatedLine) → at < start → in_run_from b at end start ls ≡ false
in_run-past b at end start [] h = refl
in_run-past b at end start (l ∷ ls) h =
    ap (λ q. q || in_run_from b at end (start + 1) ls) (go (run_length b (l ∷ ls))) ∙ in_run-past b at end (start + 1) ls (omega (arith, h))
  where
    go : (o : Option ℕ) → holds start at end o ≡ false
    go None = refl
    go (Some n) = and_left (nat_le start at) (nat_le end (start + n)) (lt-leb start at h)

-- nor does a run that begins so far above that it ends before
in_run-above : (b : List (List ℕ)) (at end start n : ℕ) (ls : List LocatedLine) → AreFilled ls → start + n ≤ end - length b → in_run_from b at end (start + n) (drop n ls) ≡ in_run_from b at end start ls
in_run-above b at end start zero ls f h = let e : start + 0 ≡ start = omega arith in ap (λ n. in_run_from b at end n ls) e
in_run-above b at end start (suc n) [] f h = refl
in_run-above b at end start (suc n) (l ∷ ls) f h =
    let e : start + suc n ≡ start + 1 + n = omega arith in
    ap (λ m. in_run_from b at end m (drop n ls)) e
    ∙ (in_run-above b at end (start + 1) n ls f.1 (omega (arith, h)) ∙ ap (λ q. q || in_run_from b at end (start + 1) ls) (sym (go (run_length b (l ∷ ls)) refl)))
  where
    short : (k : ℕ) → k ≤ length b → (nat_le start at && nat_le end (start + k)) ≡ false
    short k most = and_right (nat_le start at) (nat_le end (start + k)) (lt-leb end (start + k) (omega (arith, h, most)))

    go : (o : Option ℕ) → run_length b (l ∷ ls) ≡ o → holds start at end o ≡ false
    go None i = refl
    go (Some k) i = short k (length-most b (l ∷ ls) k f i)

-- so a walk may begin there
pub in_run-near : (b : List (List ℕ)) (at end : ℕ) (d : List LocatedLine) → IsFaithful d → in_run_from b at end (end - length b) (drop (end - length b) d) ≡ in_run_from b at end 0 d
in_run-near b at end d f =
    let n = end - length b in
    let e : n ≡ 0 + n = omega arith in
    ap (λ m. in_run_from b at end m (drop n d)) e ∙ in_run-above b at end 0 n d (filled-faithful d f) (omega arith)

-- whether a run that is found holds it
abbrev covers : (at end : ℕ) → Window → Bool
covers at end w = nat_le w.place.at at && nat_le end (w.place.at + w.count)

in_run-windows : (b : List (List ℕ)) (at end : ℕ) (f : Found) (ls : List LocatedLine) → in_run_from b at end f.at ls ≡ list_any (covers at end) (windows_from b f ls)
in_run-windows b at end f [] = refl
in_run-windows b at end f (l ∷ ls) =
    ap (λ q. holds f.at at end (run_length b (l ∷ ls)) || q) (in_run-windows b at end (below f l) ls) ∙ go (run_length b (l ∷ ls)) (windows_from b (below f l) ls)
  where
    go : (o : Option ℕ) (ws : List Window) → (holds f.at at end o || list_any (covers at end) ws) ≡ list_any (covers at end) (before_windows f o ws)
    go None ws = refl
    go (Some n) ws = refl

pub in_run-told : (b : List (List ℕ)) (at count : ℕ) (d : List LocatedLine) (r : Bool) → IsFaithful d → r ≡ in_run_from b at (at + count) 0 d
    → (s : Stretch) → length s.above ≡ at → length s.lines ≡ count → r ≡ is_in_run b (classed_lines (located_text d)) s
in_run-told b at count d r f h s e i =
    let ls = classed_lines (located_text d) in
    let p = covers at (at + count) in
    h
    ∙ (ap (in_run_from b at (at + count) 0) f
    ∙ (in_run-windows b at (at + count) first_place (located_lines ls)
    ∙ (ap (list_any p) (windows-runs b first_place ls)
    ∙ (any-map p (window_from first_place) (runs b ls) ∙ any-same (λ z. p (window_from first_place z)) (λ z. is_inside z s) (runs b ls) same))))
  where
    same : (z : Stretch) → covers at (at + count) (window_from first_place z) ≡ is_inside z s
    same z =
        ap (λ n. nat_le n at && nat_le (at + count) (n + length z.lines)) (zero-add (length z.above))
        ∙ (ap (λ n. nat_le (length z.above) n && nat_le (n + count) (length z.above + length z.lines)) (sym e)
        ∙ ap (λ n. nat_le (length z.above) (length s.above) && nat_le (length s.above + n) (length z.above + length z.lines)) (sym i))

-- ---- one stretch, with one more line above

-- a run in front holds what ends within its lines
within-front : (o i : Stretch) → o.above ≡ [] → is_inside o i ≡ nat_le (length i.above + length i.lines) (length o.lines)
within-front o i e =
    let z : length o.above ≡ 0 = ap length e in
    let end = length i.above + length i.lines in
    ap (λ n. nat_le n (length i.above) && nat_le end (n + length o.lines)) z
    ∙ (ap (λ q. q && nat_le end (0 + length o.lines)) (le-leb 0 (length i.above) (omega arith)) ∙ ap (nat_le end) (zero-add (length o.lines)))

-- a run further down holds nothing that begins in front
within-below : (l : ClassedLine) (o i : Stretch) → i.above ≡ [] → is_inside (lower l o) i ≡ false
within-below l o i e =
    let z : length i.above ≡ 0 = ap length e in
    and_left (nat_le (suc (length o.above)) (length i.above)) (nat_le (length i.above + length i.lines) (suc (length o.above) + length o.lines)) (lt-leb (suc (length o.above)) (length i.above) (omega (arith, z)))

within-lower : (l : ClassedLine) (o i : Stretch) → is_inside (lower l o) (lower l i) ≡ is_inside o i
within-lower l o i =
    let a = length o.above in
    let b = length i.above in
    ap (λ q. q && nat_le (suc b + length i.lines) (suc a + length o.lines)) (both-shifted a b (suc a) (suc b) (omega arith) (omega arith))
    ∙ ap (λ q. nat_le a b && q) (both-shifted (b + length i.lines) (a + length o.lines) (suc b + length i.lines) (suc a + length o.lines) (omega arith) (omega arith))

-- ---- each run

-- whether what earlier runs reach, or a run among these lines, holds a stretch of the lines; the first of them stands at this index
abbrev held : (new : List (List ℕ)) → (reach at : ℕ) → List ClassedLine → Stretch → Bool
held t r at ls s = nat_lt (at + (length s.above + length s.lines)) r || is_in_run t ls s

more-reached : (r at x n : ℕ) → (nat_lt (at + x) r || nat_le x n) ≡ nat_lt (at + x) (max r (at + n + 1))
more-reached r at x n = go (nat_lt (at + x) r) (nat_le x n) refl refl
  where
    go : (p q : Bool) → nat_lt (at + x) r ≡ p → nat_le x n ≡ q → (p || q) ≡ nat_lt (at + x) (max r (at + n + 1))
    go true q e i = sym (lt-ltb (at + x) (max r (at + n + 1)) (omega (arith, ltb-true (at + x) r e)))
    go false true e i = sym (lt-ltb (at + x) (max r (at + n + 1)) (omega (arith, leb-true x n i)))
    go false false e i = sym (le-ltb (at + x) (max r (at + n + 1)) (omega (arith, ltb-false (at + x) r e, leb-false x n i)))

-- what is reached once the run in front has been passed, if there is one
abbrev reached_past : (new : List (List ℕ)) → (reach at : ℕ) → List ClassedLine → ℕ
reached_past t r at ls = reached r at (option_map lines_in (run_in_front t ls))

-- a stretch below the first line
held-lower : (t : List (List ℕ)) (r at : ℕ) (l : ClassedLine) (ls : List ClassedLine) (s : Stretch) → held t r at (l ∷ ls) (lower l s) ≡ held t (reached_past t r at (l ∷ ls)) (at + 1) ls s
held-lower t r at l ls s = go (run_in_front t (l ∷ ls)) refl
  where
    down : at + (suc (length s.above) + length s.lines) ≡ at + 1 + (length s.above + length s.lines)
    down = omega arith

    rest : list_any (λ z. is_inside z (lower l s)) (map (lower l) (runs t ls)) ≡ is_in_run t ls s
    rest = any-map (λ z. is_inside z (lower l s)) (lower l) (runs t ls) ∙ any-same (λ z. is_inside (lower l z) (lower l s)) (λ z. is_inside z s) (runs t ls) (λ z. within-lower l z s)

    go : (o : Option Stretch) → run_in_front t (l ∷ ls) ≡ o
        → (nat_lt (at + (suc (length s.above) + length s.lines)) r || list_any (λ z. is_inside z (lower l s)) (before_runs o (map (lower l) (runs t ls))))
        ≡ (nat_lt (at + 1 + (length s.above + length s.lines)) (reached r at (option_map lines_in o)) || is_in_run t ls s)
    go None e = ap (λ q. nat_lt (at + (suc (length s.above) + length s.lines)) r || q) rest ∙ ap (λ n. nat_lt n r || is_in_run t ls s) down
    go (Some o) e =
        let x = suc (length s.above) + length s.lines in
        ap (λ q. nat_lt (at + x) r || (is_inside o (lower l s) || q)) rest
        ∙ (ap (λ q. nat_lt (at + x) r || (q || is_in_run t ls s)) (within-front o (lower l s) (front-above t (l ∷ ls) o e))
        ∙ (sym (or_assoc (nat_lt (at + x) r) (nat_le x (length o.lines)) (is_in_run t ls s))
        ∙ (ap (λ q. q || is_in_run t ls s) (more-reached r at x (length o.lines)) ∙ ap (λ n. nat_lt n (max r (at + length o.lines + 1)) || is_in_run t ls s) down)))

-- a stretch in front
held-front : (t : List (List ℕ)) (r at : ℕ) (l : ClassedLine) (ls : List ClassedLine) (s : Stretch) → s.above ≡ [] → held t r at (l ∷ ls) s ≡ nat_lt (at + length s.lines) (reached_past t r at (l ∷ ls))
held-front t r at l ls s a = go (run_in_front t (l ∷ ls)) refl
  where
    size : length s.above + length s.lines ≡ length s.lines
    size = ap (λ (above : List ClassedLine). length above + length s.lines) a ∙ zero-add (length s.lines)

    none : list_any (λ z. is_inside z s) (map (lower l) (runs t ls)) ≡ false
    none = any-map (λ z. is_inside z s) (lower l) (runs t ls) ∙ any-none (λ z. is_inside (lower l z) s) (runs t ls) (λ z. within-below l z s a)

    go : (o : Option Stretch) → run_in_front t (l ∷ ls) ≡ o
        → (nat_lt (at + (length s.above + length s.lines)) r || list_any (λ z. is_inside z s) (before_runs o (map (lower l) (runs t ls)))) ≡ nat_lt (at + length s.lines) (reached r at (option_map lines_in o))
    go None e =
        ap (λ q. nat_lt (at + (length s.above + length s.lines)) r || q) none
        ∙ (or-nothing (nat_lt (at + (length s.above + length s.lines)) r) ∙ ap (λ n. nat_lt (at + n) r) size)
    go (Some o) e =
        let y = length s.above + length s.lines in
        ap (λ q. nat_lt (at + y) r || (is_inside o s || q)) none
        ∙ (ap (λ q. nat_lt (at + y) r || q) (or-nothing (is_inside o s) ∙ within-front o s (front-above t (l ∷ ls) o e))
        ∙ (more-reached r at y (length o.lines) ∙ ap (λ n. nat_lt (at + n) (max r (at + length o.lines + 1))) size))

-- whether each run for a block is held
abbrev pub each_held : (new block : List (List ℕ)) → (reach at : ℕ) → List LocatedLine → Bool
each_held t b r at [] = true
each_held t b r at (l ∷ ls) = is_reached (reached r at (run_length t (l ∷ ls))) at (run_length b (l ∷ ls)) && each_held t b (reached r at (run_length t (l ∷ ls))) (at + 1) ls

-- one line on
pub each-on : (t b : List (List ℕ)) (r next at : ℕ) (d left : List LocatedLine) (l : LocatedLine) (o p : Option ℕ) → drop at d ≡ l ∷ left → o ≡ run_length t (l ∷ drop (at + 1) d) → next ≡ reached r at o → p ≡ run_length b (l ∷ drop (at + 1) d)
    → each_held t b r at (l ∷ left) ≡ (is_reached next at p && each_held t b next (at + 1) left)
each-on t b r next at d left l o p h e n i =
    let on : drop (at + 1) d ≡ left = drop-step d left l at h in
    let new : run_length t (l ∷ left) ≡ o = sym (e ∙ ap (λ z. run_length t (l ∷ z)) on) in
    let own : run_length b (l ∷ left) ≡ p = sym (i ∙ ap (λ z. run_length b (l ∷ z)) on) in
    ap (λ q. is_reached (reached r at q) at (run_length b (l ∷ left)) && each_held t b (reached r at q) (at + 1) left) new
    ∙ (ap (λ m. is_reached m at (run_length b (l ∷ left)) && each_held t b m (at + 1) left) (sym n) ∙ ap (λ q. is_reached next at q && each_held t b next (at + 1) left) own)

each-runs : (t b : List (List ℕ)) (r at : ℕ) (ls : List ClassedLine) → each_held t b r at (located_lines ls) ≡ not (list_any (λ s. not (held t r at ls s)) (runs b ls))
each-runs t b r at [] = refl
each-runs t b r at (l ∷ ls) =
    let next = reached_past t r at (l ∷ ls) in
    ap (λ o. is_reached (reached r at o) at (run_length b (located_lines (l ∷ ls))) && each_held t b (reached r at o) (at + 1) (located_lines ls)) (length-front t (l ∷ ls))
    ∙ (ap (λ o. is_reached next at o && each_held t b next (at + 1) (located_lines ls)) (length-front b (l ∷ ls))
    ∙ (ap (λ q. is_reached next at (option_map lines_in (run_in_front b (l ∷ ls))) && q) (each-runs t b next (at + 1) ls) ∙ go (run_in_front b (l ∷ ls)) refl))
  where
    both : (p q : Bool) → (p && not q) ≡ not (not p || q)
    both true q = refl
    both false q = refl

    lowered : list_any (λ s. not (held t (reached_past t r at (l ∷ ls)) (at + 1) ls s)) (runs b ls) ≡ list_any (λ s. not (held t r at (l ∷ ls) s)) (map (lower l) (runs b ls))
    lowered =
        sym
        (any-map (λ s. not (held t r at (l ∷ ls) s)) (lower l) (runs b ls)
        ∙ any-same (λ s. not (held t r at (l ∷ ls) (lower l s))) (λ s. not (held t (reached_past t r at (l ∷ ls)) (at + 1) ls s)) (runs b ls) (λ s. ap not (held-lower t r at l ls s)))

    go : (o : Option Stretch) → run_in_front b (l ∷ ls) ≡ o
        → (is_reached (reached_past t r at (l ∷ ls)) at (option_map lines_in o) && not (list_any (λ s. not (held t (reached_past t r at (l ∷ ls)) (at + 1) ls s)) (runs b ls)))
        ≡ not (list_any (λ s. not (held t r at (l ∷ ls) s)) (before_runs o (map (lower l) (runs b ls))))
    go None e = ap not lowered
    go (Some o) e =
        let reach = reached_past t r at (l ∷ ls) in
        ap (λ q. nat_lt (at + length o.lines) reach && not q) lowered
        ∙ (both (nat_lt (at + length o.lines) reach) (list_any (λ s. not (held t r at (l ∷ ls) s)) (map (lower l) (runs b ls)))
        ∙ ap (λ q. not (not q || list_any (λ s. not (held t r at (l ∷ ls) s)) (map (lower l) (runs b ls)))) (sym (held-front t r at l ls o (front-above b (l ∷ ls) o e))))

pub each-told : (t b : List (List ℕ)) (d : List LocatedLine) → IsFaithful d
    → each_held t b 0 0 d ≡ not (list_any (λ s. not (is_in_run t (classed_lines (located_text d)) s)) (runs b (classed_lines (located_text d))))
each-told t b d f =
    let ls = classed_lines (located_text d) in
    ap (each_held t b 0 0) f
    ∙ (each-runs t b 0 0 ls
    ∙ ap not
    (any-same (λ s. not (held t 0 0 ls s)) (λ s. not (is_in_run t ls s)) (runs b ls)
    (λ s. ap (λ q. not (q || is_in_run t ls s)) (le-ltb (0 + (length s.above + length s.lines)) 0 (omega arith)))))

-- ---- the ends of runs

pub run-few : (o : Option ℕ) (at n : ℕ) → n ≤ max_text → IfSome o (λ k. at + 1 + k ≤ n + 1) → IfSome o (λ k. at + k ≤ max_text)
run-few None at n h i = tt
run-few (Some k) at n h i = omega (arith, h, i)
