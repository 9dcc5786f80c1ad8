-- A walk over the windows of a document: what it has before it at each window.
use Rattle.std.proofs.Common.{◌≡◌, refl, sym, ap, ◌∙◌, subst, arith, ℕ, suc, ◌+◌, ◌<◌, ◌≤◌, add-one, drop-cons, get_or, List, [], ◌∷◌, ◌++◌, Bool, false, length, length-append, append-nil, append_assoc, take, drop}
use Rattle.std.proofs.lemmas.List.{drop-drop, length-drop}
use Rattle.std.proofs.Math.Seq.{take-append_seam, drop-append_seam}
use Rattle.mk_class.specs.Contexts.{start}
use Rattle.mk_tree.specs.LocatedLines.{LocatedLine}
use Rattle.mk_tree.specs.Admissions.{AreAdmitted}
use Rattle.mk_tree.specs.Origins.{lines_between}
use Rattle.mk_edit_parts.specs.Windows.{AreWindows, NonePasses, below, below_all, first_place}
use Rattle.mk_edit_parts.specs.declared.seek.Found.{Found}
use Rattle.mk_edit_parts.specs.declared.window.Window.{Window}

-- ---- places

-- the place below some lines
pub below_all-at : (f : Found) (ls : List LocatedLine) → (below_all f ls).at ≡ f.at + length ls
below_all-at f [] = omega arith
below_all-at f (l ∷ ls) = omega (arith, below_all-at (below f l) ls)

-- lines that are admitted where they stand stay so behind the first of them
admitted-below : (f : Found) (xs ys : List LocatedLine) → AreAdmitted f.context (xs ++ ys) → AreAdmitted (below_all f xs).context ys
admitted-below f [] ys h = h
admitted-below f (l ∷ xs) ys h = admitted-below (below f l) xs ys h.1

-- the lines from a place on, and those behind the first of them
drop-below : (d xs ys : List LocatedLine) (f : Found) → drop f.at d ≡ xs ++ ys → drop (below_all f xs).at d ≡ ys
drop-below d xs ys f h = ap (λ n. drop n d) (below_all-at f xs) ∙ (sym (drop-drop (length xs) f.at d) ∙ (ap (drop (length xs)) h ∙ drop-append_seam xs ys))

-- ---- lines that were passed

-- A walk has come from a place of a document to another place, and these lines are ahead.
pub record IsPassed (d : List LocatedLine) (from now : Found) (ahead : List LocatedLine) : Type 0 where
  pub passed : List LocatedLine
  pub from_is : drop from.at d ≡ passed ++ ahead
  pub now_is : now ≡ below_all from passed

pub passed-none : (d : List LocatedLine) (f : Found) → IsPassed d f f (drop f.at d)
passed-none d f = record { passed = []; from_is = refl; now_is = refl }

below-last : (f : Found) (ls : List LocatedLine) (l : LocatedLine) → below_all f (ls ++ l ∷ []) ≡ below (below_all f ls) l
below-last f [] l = refl
below-last f (x ∷ ls) l = below-last (below f x) ls l

-- one line on
pub passed-one : (d : List LocatedLine) (from now next : Found) (ahead left : List LocatedLine) (l : LocatedLine) → ahead ≡ l ∷ left → next ≡ below now l → IsPassed d from now ahead → IsPassed d from next left
passed-one d from now next ahead left l e n P = record {
  passed = P.passed ++ l ∷ [];
  from_is = P.from_is ∙ (ap (λ z. P.passed ++ z) e ∙ sym (append_assoc P.passed (l ∷ []) left));
  now_is = n ∙ (ap (λ (z : Found). below z l) P.now_is ∙ sym (below-last from P.passed l));
}

-- a walk with no line ahead is at the end
pub passed-all : (d : List LocatedLine) (from now : Found) (ahead : List LocatedLine) → ahead ≡ [] → from.at ≤ length d → IsPassed d from now ahead → now.at ≡ length d
passed-all d from now ahead e h P =
    omega (arith, h, ap (λ (z : Found). z.at) P.now_is, below_all-at from P.passed, ap length P.from_is, length-drop from.at d, length-append P.passed ahead, ap length e)

-- a walk that passed this number of lines
pub record IsPassedBy (d : List LocatedLine) (from : Found) (count : ℕ) (now : Found) (ahead : List LocatedLine) : Type 0 where
  pub now_is : now ≡ below_all from (lines_between from.at count d)
  pub ahead_is : drop now.at d ≡ ahead

pub passed-by : (d : List LocatedLine) (from now : Found) (ahead : List LocatedLine) (count : ℕ) → now.at ≡ from.at + count → IsPassed d from now ahead → IsPassedBy d from count now ahead
passed-by d from now ahead count n P =
    let number : length P.passed ≡ count = omega (arith, n, ap (λ (z : Found). z.at) P.now_is, below_all-at from P.passed) in
    let lines : lines_between from.at count d ≡ P.passed = ap (λ n. take n (drop from.at d)) (sym number) ∙ (ap (take (length P.passed)) P.from_is ∙ take-append_seam P.passed ahead) in
    record { now_is = P.now_is ∙ ap (below_all from) (sym lines); ahead_is = ap (λ (z : Found). drop z.at d) P.now_is ∙ drop-below d P.passed ahead from P.from_is }

-- ---- windows

-- The windows that are ahead of a walk, which has come to a place of a document, and the lines from this place on.
pub record AreAhead (test : LocatedLine → Bool) (d : List LocatedLine) (f : Found) (rest : List LocatedLine) (ws : List Window) : Type 0 where
  pub rest_is : drop f.at d ≡ rest
  pub number : f.at + length rest ≡ length d
  pub admitted : AreAdmitted f.context rest
  pub windows : AreWindows test f rest ws

-- The next window: the lines above it, those inside it, and those below it.
pub record IsAhead (test : LocatedLine → Bool) (d : List LocatedLine) (f : Found) (rest : List LocatedLine) (w : Window) (ws : List Window) : Type 0 where
  pub above : List LocatedLine
  pub inside : List LocatedLine
  pub after : List LocatedLine
  pub lines_are : rest ≡ above ++ (inside ++ after)
  pub none_passes : NonePasses test above
  pub place_is : w.place ≡ below_all f above
  pub count_is : w.count ≡ length inside
  pub lower : f.at ≤ w.place.at
  pub in_range : w.place.at + w.count ≤ length d
  pub from_is : drop w.place.at d ≡ inside ++ after
  pub inside_is : lines_between w.place.at w.count d ≡ inside
  pub admitted : AreAdmitted w.place.context (drop w.place.at d)
  pub next : AreAhead test d (below_all w.place inside) after ws

-- the whole document is ahead at the start
pub ahead-first : (p : LocatedLine → Bool) (d : List LocatedLine) (ws : List Window) → AreAdmitted start d → AreWindows p first_place d ws → AreAhead p d first_place d ws
ahead-first p d ws a h = record { rest_is = refl; number = omega arith; admitted = a; windows = h }

pub ahead-next : (p : LocatedLine → Bool) (d : List LocatedLine) (f : Found) (rest : List LocatedLine) (w : Window) (ws : List Window) → AreAhead p d f rest (w ∷ ws) → IsAhead p d f rest w ws
ahead-next p d f rest w ws A =
    let W = A.windows in
    let above = W.above in
    let inside = W.inside in
    let after = W.after in
    let all : drop f.at d ≡ above ++ (inside ++ after) = A.rest_is ∙ W.lines_are in
    let at : w.place.at ≡ f.at + length above = ap (λ (z : Found). z.at) W.place_is ∙ below_all-at f above in
    let from : drop w.place.at d ≡ inside ++ after = ap (λ (z : Found). drop z.at d) W.place_is ∙ drop-below d above (inside ++ after) f all in
    let here : AreAdmitted w.place.context (inside ++ after) = subst (λ (z : Found). AreAdmitted z.context (inside ++ after)) (sym W.place_is) (admitted-below f above (inside ++ after) (subst (AreAdmitted f.context) W.lines_are A.admitted)) in
    let number : f.at + (length above + (length inside + length after)) ≡ length d =
    omega (arith, A.number, ap length W.lines_are, length-append above (inside ++ after), length-append inside after) in
    record {
      above = above;
      inside = inside;
      after = after;
      lines_are = W.lines_are;
      none_passes = W.none_passes;
      place_is = W.place_is;
      count_is = W.count_is;
      lower = omega (arith, at);
      in_range = omega (arith, at, W.count_is, number);
      from_is = from;
      inside_is = ap (λ n. take n (drop w.place.at d)) W.count_is ∙ (ap (take (length inside)) from ∙ take-append_seam inside after);
      admitted = subst (AreAdmitted w.place.context) (sym from) here;
      next = record {
        rest_is = drop-below d inside after w.place from;
        number = omega (arith, number, at, below_all-at w.place inside);
        admitted = admitted-below w.place inside after here;
        windows = W.next_is;
      };
    }

-- windows for a test are windows for one that passes no other lines
none-fewer : (p q : LocatedLine → Bool) (ls : List LocatedLine) → ((l : LocatedLine) → p l ≡ false → q l ≡ false) → NonePasses p ls → NonePasses q ls
none-fewer p q [] h k = tt
none-fewer p q (l ∷ ls) h k = (h l k.0, none-fewer p q ls h k.1)

pub windows-fewer : (p q : LocatedLine → Bool) (f : Found) (ls : List LocatedLine) (ws : List Window) → ((l : LocatedLine) → p l ≡ false → q l ≡ false) → AreWindows p f ls ws → AreWindows q f ls ws
windows-fewer p q f ls [] h W = W
windows-fewer p q f ls (w ∷ ws) h W = record {
  above = W.above;
  inside = W.inside;
  after = W.after;
  lines_are = W.lines_are;
  none_passes = none-fewer p q W.above h W.none_passes;
  place_is = W.place_is;
  count_is = W.count_is;
  next_is = windows-fewer p q (below_all w.place W.inside) W.after ws h W.next_is;
}

-- the windows that are left at an index of some windows
pub left-at : (ws : List Window) (i : ℕ) (w : Window) → i < length ws → w ≡ get_or ws i w → drop i ws ≡ w ∷ drop (i + 1) ws
left-at ws i w h e = rw (add-one, drop-cons ws i w h) (ap (λ (z : Window). z ∷ drop (suc i) ws) (sym e))

-- one window that is the whole document
pub window-whole : (p : LocatedLine → Bool) (d : List LocatedLine) (w : Window) → w.place ≡ first_place → w.count ≡ length d → AreWindows p first_place d (w ∷ [])
window-whole p d w e n = record { above = []; inside = d; after = []; lines_are = sym (append-nil d); none_passes = tt; place_is = e; count_is = n; next_is = refl }
