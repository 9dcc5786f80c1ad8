-- Lines that stand in a text as they were read, and still do after other lines have changed.
use Rattle.std.proofs.Common.{◌≡◌, ℕ, zero, suc, ◌+◌, ◌-◌, ◌<◌, ◌≤◌, min, refl, sym, ap, ◌∙◌, subst, arith, List, [], ◌∷◌, ◌++◌, length, length-append, take, drop, take-append-drop, append_assoc, append-nil, suc-add}
use Rattle.std.proofs.lemmas.List.{drop-drop, drop_at, length-take-le, length-drop, take-append-le, take-take, take_all, take_at, drop_all}
use Rattle.std.proofs.Math.Seq.{drop-append-add}
use Rattle.mk_tree.proofs.Ends.{length-with_last, take-with_last}
use Rattle.mk_tree.specs.LocatedLines.{LocatedLine, located_text, size_of, with_last_bytes}
use Rattle.mk_tree.specs.Origins.{AreUntouched, BeginsWith, EndsWith, lines_between}
use Rattle.mk_tree.proofs.on_changes.Sizes.{size_of-text}

-- the text of lines that follow each other
located_text-append : (l m : List LocatedLine) → located_text (l ++ m) ≡ located_text l ++ located_text m
located_text-append [] m = refl
located_text-append (x ∷ l) m = ap (λ z. x.bytes ++ z) (located_text-append l m) ∙ sym (append_assoc x.bytes (located_text l) (located_text m))

-- the text of some lines, cut between two of them
pub located_text-cut : (n : ℕ) (ls : List LocatedLine) → located_text ls ≡ located_text (take n ls) ++ located_text (drop n ls)
located_text-cut n ls = ap located_text (sym (take-append-drop n ls)) ∙ located_text-append (take n ls) (drop n ls)

-- ---- fewer lines

begins-fewer : (text : List ℕ) (n m : ℕ) (ls : List LocatedLine) → m ≤ n → BeginsWith text (take n ls) → BeginsWith text (take m ls)
begins-fewer text n m ls h (rest, e) = (
  located_text (drop m (take n ls)) ++ rest,
  e ∙ (ap (λ z. z ++ rest) (located_text-cut m (take n ls) ∙ ap (λ z. located_text z ++ located_text (drop m (take n ls))) (take-take m n ls h))
      ∙ append_assoc (located_text (take m ls)) (located_text (drop m (take n ls))) rest),
)

ends-fewer : (text : List ℕ) (n m : ℕ) (ls : List LocatedLine) → n ≤ m → EndsWith text (drop n ls) → EndsWith text (drop m ls)
ends-fewer text n m ls h (before, e) =
    let d : drop (m - n) (drop n ls) ≡ drop m ls = drop-drop (m - n) n ls ∙ ap (λ k. drop k ls) (let k : n + (m - n) ≡ m = omega arith in k) in (
      before ++ located_text (take (m - n) (drop n ls)),
      e ∙ (ap (λ z. before ++ z) (located_text-cut (m - n) (drop n ls) ∙ ap (λ z. located_text (take (m - n) (drop n ls)) ++ located_text z) d)
          ∙ sym (append_assoc before (located_text (take (m - n) (drop n ls))) (located_text (drop m ls)))),
    )

-- ---- other lines change

-- Lines are put in the place of those from one index up to another. The first lines before them, and
-- the last lines after them, stand where they stood.
untouched-changed : (text : List ℕ) (first last at to : ℕ) (old new : List LocatedLine) → at ≤ length old → to ≤ length old → AreUntouched text first last old
    → AreUntouched text (min first at) (min last (length old - to)) (take at old ++ (new ++ drop to old))
untouched-changed text first last at to old new h k u =
    let n = min first at in
    let m = min last (length old - to) in
    let ys = take at old ++ new in
    let whole : take at old ++ (new ++ drop to old) ≡ ys ++ drop to old = sym (append_assoc (take at old) new (drop to old)) in
    let long : length (ys ++ drop to old) ≡ length ys + (length old - to) = length-append ys (drop to old) ∙ ap (λ i. length ys + i) (length-drop to old) in
    let long_ys : length ys ≡ at + length new = length-append (take at old) new ∙ ap (λ i. i + length new) (length-take-le at old h) in
    let front : take n (take at old ++ (new ++ drop to old)) ≡ take n old =
    take-append-le n (take at old) (new ++ drop to old) (omega (arith, length-take-le at old h)) ∙ take-take n at old (omega arith) in
    let behind : length (ys ++ drop to old) - m ≡ length ys + (length old - to - m) = omega (arith, long) in
    let end : drop (length (ys ++ drop to old) - m) (ys ++ drop to old) ≡ drop (length old - m) old =
    ap (λ i. drop i (ys ++ drop to old)) behind ∙ (drop-append-add ys (drop to old) (length old - to - m) ∙ (drop-drop (length old - to - m) to old
    ∙ ap (λ i. drop i old) (let i : to + (length old - to - m) ≡ length old - m = omega arith in i))) in
    record {
      few_first = omega (arith, ap length whole, long, long_ys);
      few_last = omega (arith, ap length whole, long);
      front = subst (BeginsWith text) (sym front) (begins-fewer text first n old (omega arith) u.front);
      end = rw whole (subst (EndsWith text) (sym end) (ends-fewer text (length old - last) (length old - m) old (omega arith) u.end));
    }

-- ---- lines passed one by one

take-step : (ls left : List LocatedLine) (x : LocatedLine) (n : ℕ) → drop n ls ≡ x ∷ left → take (n + 1) ls ≡ take n ls ++ x ∷ []
take-step [] left x zero e = cc
take-step [] left x (suc n) e = cc
take-step (l ∷ ls) left x zero e = cc
take-step (l ∷ ls) left x (suc n) e = rw (suc-add n 1) (ap (λ z. l ∷ z) (take-step ls left x n e))

-- the text of the lines that were passed, after one more
pub text-step : (ls ahead left : List LocatedLine) (x : LocatedLine) (n : ℕ) → drop n ls ≡ ahead → ahead ≡ x ∷ left → located_text (take (n + 1) ls) ≡ located_text (take n ls) ++ x.bytes
text-step ls ahead left x n at e =
    ap located_text (take-step ls left x n (at ∙ e)) ∙ (located_text-append (take n ls) (x ∷ []) ∙ ap (λ z. located_text (take n ls) ++ z) (append-nil x.bytes))

-- how many bytes they have
pub size-step : (ls ahead left : List LocatedLine) (x : LocatedLine) (n : ℕ) → drop n ls ≡ ahead → ahead ≡ x ∷ left → size_of (take (n + 1) ls) ≡ size_of (take n ls) + length x.bytes
size-step ls ahead left x n at e =
    omega (arith, size_of-text (take (n + 1) ls), size_of-text (take n ls), ap length (text-step ls ahead left x n at e), length-append (located_text (take n ls)) x.bytes)

size_of-cut : (n : ℕ) (ls : List LocatedLine) → size_of ls ≡ size_of (take n ls) + size_of (drop n ls)
size_of-cut n ls =
    omega (arith, size_of-text ls, size_of-text (take n ls), size_of-text (drop n ls), ap length (located_text-cut n ls), length-append (located_text (take n ls)) (located_text (drop n ls)))

-- lines between others have no more bytes than all together
pub size_of-between : (from count : ℕ) (ls : List LocatedLine) → size_of (lines_between from count ls) ≤ size_of ls
size_of-between from count ls = omega (arith, size_of-cut from ls, size_of-cut count (drop from ls))

-- ---- the parts of a document's text

-- a text that begins with the text of some lines, up to their end
front-text : (text : List ℕ) (ls : List LocatedLine) (n : ℕ) → BeginsWith text ls → n ≡ size_of ls → (n ≤ length text) × (take n text ≡ located_text ls)
front-text text ls n (rest, e) h =
    let long : n ≡ length (located_text ls) = omega (arith, h, size_of-text ls) in (
      omega (arith, ap length e, length-append (located_text ls) rest, long),
      ap (take n) e ∙ take_at (located_text ls) rest n (sym long),
    )

-- a text that ends with the text of some lines, from their beginning on
end-text : (text : List ℕ) (ls : List LocatedLine) (n : ℕ) → EndsWith text ls → n ≡ size_of ls → (n ≤ length text) × (drop (length text - n) text ≡ located_text ls)
end-text text ls n (before, e) h =
    let long : n ≡ length (located_text ls) = omega (arith, h, size_of-text ls) in
    let all : length text ≡ length before + length (located_text ls) = ap length e ∙ length-append before (located_text ls) in (
      omega (arith, all, long),
      ap (drop (length text - n)) e ∙ drop_at before (located_text ls) (length text - n) (omega (arith, all, long)),
    )

-- the lines before some lines, these, and the lines after them
three-texts : (from count : ℕ) (ls : List LocatedLine) → located_text ls ≡ located_text (take from ls) ++ (located_text (lines_between from count ls) ++ located_text (drop (from + count) ls))
three-texts from count ls =
    located_text-cut from ls ∙ ap (λ z. located_text (take from ls) ++ z) (located_text-cut count (drop from ls) ∙ ap (λ z. located_text (lines_between from count ls) ++ located_text z) (drop-drop count from ls))

pub three-sizes : (from count : ℕ) (ls : List LocatedLine) → size_of ls ≡ size_of (take from ls) + size_of (lines_between from count ls) + size_of (drop (from + count) ls)
three-sizes from count ls = omega (arith, size_of-cut from ls, size_of-cut count (drop from ls), ap size_of (drop-drop count from ls))

-- the last lines are those from an index on
pub last-between : (from count : ℕ) (ls : List LocatedLine) → from + count ≡ length ls → lines_between from count ls ≡ drop from ls
last-between from count ls h = take_all count (drop from ls) (omega (arith, h, length-drop from ls))

-- fewer of the last lines stand at the end of a text too
untouched-end : (text : List ℕ) (first last from : ℕ) (ls : List LocatedLine) → AreUntouched text first last ls → length ls - last ≤ from → EndsWith text (drop from ls)
untouched-end text first last from ls u h = ends-fewer text (length ls - last) from ls h u.end

-- the three parts of a document's text, two of which are cut from the text that was read
pub parts : (text : List ℕ) (first last kept count front end : ℕ) (ls : List LocatedLine) → AreUntouched text first last ls → kept ≡ min last (length ls - first) → count ≡ length ls - first - kept
    → front ≡ size_of (take first ls) → end ≡ size_of (drop (first + count) ls)
    → (front ≤ length text) × (end ≤ length text) × (located_text ls ≡ take front text ++ (located_text (lines_between first count ls) ++ drop (length text - end) text))
parts text first last kept count front end ls u k n f e =
    let (front_within, front_is) = front-text text (take first ls) front u.front f in
    let few : first ≤ length ls = u.few_first in
    let late : length ls - last ≤ first + count = omega (arith, k, n, few) in
    let (end_within, end_is) = end-text text (drop (first + count) ls) end (untouched-end text first last (first + count) ls u late) e in
    (front_within, end_within, three-texts first count ls ∙ rw (front_is, end_is) refl)

-- ---- the same, through what each call leaves

-- where there is no line
pub untouched-none : (text : List ℕ) (first last : ℕ) (ls : List LocatedLine) → ls ≡ [] → first ≡ 0 → last ≡ 0 → AreUntouched text first last ls
untouched-none text first last ls e f l =
    rw (e, f, l) (record {
      few_first = omega arith;
      few_last = omega arith;
      front = (text, refl);
      end = (text, sym (append-nil text));
    })

-- all lines stand in the text that they were read from
pub untouched-read : (text text' : List ℕ) (n first last : ℕ) (ls : List LocatedLine) → n ≡ length ls → first ≡ n → last ≡ n → text' ≡ text → located_text ls ≡ text → AreUntouched text' first last ls
untouched-read text text' n first last ls long f e same all =
    let front : take first ls ≡ ls = take_all first ls (omega (arith, long, f)) in
    let end : drop (length ls - last) ls ≡ ls = ap (λ k. drop k ls) (let k : length ls - last ≡ 0 = omega (arith, long, e) in k) in
    record {
      few_first = omega (arith, long, f);
      few_last = omega (arith, long, e);
      front = ([], same ∙ (sym all ∙ (ap located_text (sym front) ∙ sym (append-nil (located_text (take first ls))))));
      end = ([], same ∙ (sym all ∙ ap located_text (sym end)));
    }

-- lines in the place of others
pub untouched-kept : (text text' : List ℕ) (first last first' last' at to n after : ℕ) (inside taken new whole : List LocatedLine) → taken ≡ inside → n ≡ length inside → at ≤ length inside → to ≤ length inside → after ≡ n - to
    → text' ≡ text → first' ≡ min first at → last' ≡ min last after → AreUntouched text first last inside → whole ≡ take at taken ++ (new ++ drop to taken) → AreUntouched text' first' last' whole
untouched-kept text text' first last first' last' at to n after inside taken new whole e long h k a same f l u w =
    let behind : last' ≡ min last (length inside - to) = l ∙ ap (min last) (let x : after ≡ length inside - to = omega (arith, a, long) in x) in
    rw (same, f, behind, w, e) (untouched-changed text first last at to inside new h k u)

-- other bytes for the last line
pub untouched-ended : (bytes text text' : List ℕ) (first last first' last' n : ℕ) (inside taken whole : List LocatedLine) → taken ≡ inside → n ≡ length inside → 0 < length inside
    → text' ≡ text → first' ≡ min first (n - 1) → last' ≡ min last 0 → AreUntouched text first last inside → whole ≡ with_last_bytes bytes taken → AreUntouched text' first' last' whole
untouched-ended bytes text text' first last first' last' n inside taken whole e long some same f l u w =
    let all : length whole ≡ length inside = ap length w ∙ (length-with_last bytes taken ∙ ap length e) in
    let none : last' ≡ 0 = omega (arith, l) in
    let front : take first' whole ≡ take first' inside =
    ap (take first') w ∙ (take-with_last bytes first' taken (omega (arith, f, long, some, ap length e)) ∙ ap (take first') e) in
    let end : drop (length whole - last') whole ≡ [] = drop_all (length whole - last') whole (omega (arith, none)) in
    record {
      few_first = omega (arith, all, f, long);
      few_last = omega (arith, none);
      front = subst (BeginsWith text') (sym front) (rw same (begins-fewer text first first' inside (omega (arith, f)) u.front));
      end = subst (EndsWith text') (sym end) (text', sym (append-nil text'));
    }
