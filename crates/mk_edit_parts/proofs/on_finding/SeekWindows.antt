-- A walk for an address over the lines of windows sees what a walk over the whole document sees.
use Rattle.std.proofs.Common.{◌≡◌, refl, sym, ap, ◌∙◌, subst, arith, ℕ, zero, suc, ◌+◌, ◌<◌, ◌≤◌, ◌||◌, get_or, if◌then◌else◌, List, [], ◌∷◌, ◌++◌, Bool, true, false, length, take, drop, suc-add, Option}
use Rattle.std.proofs.lemmas.List.{length-drop}
use Rattle.mk_class.specs.ClassedLines.{classed_lines}
use Rattle.mk_class.specs.Contexts.{start}
use Rattle.mk_tree.specs.Documents.{IsFaithful}
use Rattle.mk_tree.specs.LocatedLines.{LocatedLine, located_text}
use Rattle.mk_tree.specs.Admissions.{AreAdmitted}
use Rattle.mk_tree.specs.Origins.{lines_between}
use Rattle.mk_tree.proofs.AdmissionLemmas.{drop-step}
use Rattle.mk_edit_language.specs.Addresses.{Address}
use Rattle.mk_edit_parts.specs.LocatedParts.{AreEachClassed, is_unread_located}
use Rattle.mk_edit_parts.specs.Seeking.{IsNumbered, IsSought, may_mean, wanted}
use Rattle.mk_edit_parts.specs.SeekWalks.{noted, noted_by, nothing_seen, seek}
use Rattle.mk_edit_parts.specs.Windows.{AreWindows, NonePasses, below, below_all, concerns, first_place}
use Rattle.mk_edit_parts.specs.declared.seek.Found.{Found}
use Rattle.mk_edit_parts.specs.declared.seek.Sought.{Sought}
use Rattle.mk_edit_parts.specs.declared.window.Window.{Window}
use Rattle.mk_edit_parts.proofs.on_finding.Walks.{each-from}
use Rattle.mk_edit_parts.proofs.on_finding.SeekLemmas.{faithful-each, lines-sought}
use Rattle.mk_edit_parts.proofs.on_finding.WindowLemmas.{AreAhead, ahead-first, ahead-next, left-at}

-- ---- the walk over some lines, and then over others

seek-append : (p : LocatedLine → Bool) (w : ℕ) (s : Sought) (xs ys : List LocatedLine) → seek p w s (xs ++ ys) ≡ seek p w (seek p w s xs) ys
seek-append p w s [] ys = refl
seek-append p w s (l ∷ xs) ys = seek-append p w (noted p w l s) xs ys

seek-place : (p : LocatedLine → Bool) (w : ℕ) (s : Sought) (ls : List LocatedLine) → (seek p w s ls).end ≡ below_all s.end ls
seek-place p w s [] = refl
seek-place p w s (l ∷ ls) = seek-place p w (noted p w l s) ls

-- no more lines are counted than were passed
seek-no_more : (p : LocatedLine → Bool) (w : ℕ) (s : Sought) (ls : List LocatedLine) → s.count ≤ s.end.at → (seek p w s ls).count ≤ (seek p w s ls).end.at
seek-no_more p w s [] h = h
seek-no_more p w s (l ∷ ls) h = seek-no_more p w (noted p w l s) ls (go (p l))
  where
    go : (b : Bool) → (if b then s.count + 1 else s.count) ≤ s.end.at + 1
    go true = omega (arith, h)
    go false = omega (arith, h)

-- one line more
seek-step : (p : LocatedLine → Bool) (w : ℕ) (s : Sought) (ls left : List LocatedLine) (x : LocatedLine) (n : ℕ) → drop n ls ≡ x ∷ left → seek p w s (take (n + 1) ls) ≡ noted p w x (seek p w s (take n ls))
seek-step p w s [] left x zero e = cc
seek-step p w s [] left x (suc n) e = cc
seek-step p w s (l ∷ ls) left x zero e = let same : l ≡ x = cc in ap (λ (z : LocatedLine). noted p w z s) same
seek-step p w s (l ∷ ls) left x (suc n) e = rw (suc-add n 1) (seek-step p w (noted p w l s) ls left x n e)

-- lines that do not concern the address change the place alone
seek-gap : (a : Option Address) (w : ℕ) (s : Sought) (ls : List LocatedLine) → NonePasses (concerns a) ls → seek (may_mean a) w s ls ≡ record s { end = below_all s.end ls }
seek-gap a w s [] h = refl
seek-gap a w s (l ∷ ls) h = ap (λ (z : Sought). seek (may_mean a) w z ls) (same (may_mean a l) (is_unread_located l) s.has_unread_prefix h.0) ∙ seek-gap a w (record s { end = below s.end l }) ls h.1
  where
    same : (m u had : Bool) → (m || u) ≡ false → noted_by m u w l.class (record s { has_unread_prefix = had }) ≡ record s { has_unread_prefix = had; end = below s.end l }
    same false false true h = refl
    same false false false h = refl
    same false true had h = absurd (cc)
    same true u had h = absurd (cc)

-- ---- the lines of one window

-- What a walk has seen after some lines of a document, with those ahead.
pub record IsNotedTo (p : LocatedLine → Bool) (w : ℕ) (ls : List LocatedLine) (before now : Sought) (at : ℕ) (ahead : List LocatedLine) (total : ℕ) : Type 0 where
  pub here : drop at ls ≡ ahead
  pub seen : now ≡ seek p w before (take at ls)
  pub classed : AreEachClassed ahead
  pub admitted : AreAdmitted now.end.context ahead
  pub no_more : now.count ≤ now.end.at
  pub number : now.end.at + length ahead ≡ total

pub noted-first : (p : LocatedLine → Bool) (w : ℕ) (d ahead : List LocatedLine) (before : Sought) → IsFaithful d → before.end.at ≤ length d → AreAdmitted before.end.context (drop before.end.at d) → before.count ≤ before.end.at → ahead ≡ drop before.end.at d
    → IsNotedTo p w (drop before.end.at d) before before 0 ahead (length d)
noted-first p w d ahead before f n h few e = record {
  here = sym e;
  seen = refl;
  classed = subst AreEachClassed (sym e) (each-from before.end.at d (faithful-each d f));
  admitted = subst (AreAdmitted before.end.context) (sym e) h;
  no_more = few;
  number = omega (arith, n, ap length e, length-drop before.end.at d);
}

pub noted-on : (p : LocatedLine → Bool) (w : ℕ) (ls : List LocatedLine) (before now next : Sought) (at : ℕ) (ahead left : List LocatedLine) (x : LocatedLine) (total : ℕ) → IsNotedTo p w ls before now at ahead total → ahead ≡ x ∷ left → next ≡ noted p w x now → next.count ≤ next.end.at
    → IsNotedTo p w ls before next (at + 1) left total
noted-on p w ls before now next at ahead left x total N e s few =
    let d : drop at ls ≡ x ∷ left = N.here ∙ e in
    let classed : AreEachClassed (x ∷ left) = subst AreEachClassed e N.classed in
    let admitted : AreAdmitted now.end.context (x ∷ left) = subst (AreAdmitted now.end.context) e N.admitted in
    record {
      here = drop-step ls left x at d;
      seen = s ∙ (ap (noted p w x) N.seen ∙ sym (seek-step p w before ls left x at d));
      classed = classed.1;
      admitted = subst (λ (z : Sought). AreAdmitted z.end.context left) (sym s) admitted.1;
      no_more = few;
      number = omega (arith, N.number, ap length e, ap (λ (z : Sought). z.end.at) s);
    }

-- ---- the windows

-- A walk over windows, some of which are ahead: what it has seen, with what it will see of the lines ahead, is what it sees of
-- the whole document.
pub record IsWalked (a : Option Address) (w : ℕ) (d : List LocatedLine) (s : Sought) (ws : List Window) : Type 0 where
  pub rest : List LocatedLine
  pub ahead : AreAhead (concerns a) d s.end rest ws
  pub walked : seek (may_mean a) w s rest ≡ seek (may_mean a) w nothing_seen d
  pub no_more : s.count ≤ s.end.at

pub walked-first : (a : Option Address) (w : ℕ) (d : List LocatedLine) (s : Sought) (ws : List Window) → s ≡ nothing_seen → AreAdmitted start d → AreWindows (concerns a) first_place d ws → IsWalked a w d s ws
walked-first a w d s ws e h k = rw e (record { rest = d; ahead = ahead-first (concerns a) d ws h k; walked = refl; no_more = omega arith })

-- what the next window asks, and the walk after it
pub record IsWalkedInto (a : Option Address) (w : ℕ) (d : List LocatedLine) (s : Sought) (x : Window) (ws : List Window) : Type 0 where
  pub in_range : x.place.at + x.count ≤ length d
  pub admitted : AreAdmitted x.place.context (drop x.place.at d)
  pub no_more : s.count ≤ x.place.at
  pub next : (t : Sought) → t ≡ seek (may_mean a) w (record s { end = x.place }) (lines_between x.place.at x.count d) → IsWalked a w d t ws

walked-into : (a : Option Address) (w : ℕ) (d : List LocatedLine) (s : Sought) (x : Window) (ws : List Window) → IsWalked a w d s (x ∷ ws) → IsWalkedInto a w d s x ws
walked-into a w d s x ws W =
    let p = may_mean a in
    let A = ahead-next (concerns a) d s.end W.rest x ws W.ahead in
    let at : Sought = record s { end = x.place } in
    let few : s.count ≤ x.place.at = omega (arith, W.no_more, A.lower) in
    let gap : seek p w s A.above ≡ at = seek-gap a w s A.above A.none_passes ∙ ap (λ (z : Found). record s { end = z }) (sym A.place_is) in
    let over : seek p w (seek p w at A.inside) A.after ≡ seek p w nothing_seen d =
    ap (λ (z : Sought). seek p w (seek p w z A.inside) A.after) (sym gap)
    ∙ (sym (seek-append p w (seek p w s A.above) A.inside A.after)
    ∙ (sym (seek-append p w s A.above (A.inside ++ A.after))
    ∙ (ap (seek p w s) (sym A.lines_are) ∙ W.walked))) in
    record {
      in_range = A.in_range;
      admitted = A.admitted;
      no_more = few;
      next = λ t e.
          let is : t ≡ seek p w at A.inside = e ∙ ap (seek p w at) A.inside_is in
          rw is (record {
            rest = A.after;
            ahead = subst (λ (z : Found). AreAhead (concerns a) d z A.after ws) (sym (seek-place p w at A.inside)) A.next;
            walked = over;
            no_more = seek-no_more p w at A.inside few;
          });
    }

-- the window at an index
pub walked-at : (a : Option Address) (w : ℕ) (d : List LocatedLine) (s : Sought) (ws : List Window) (i : ℕ) (x : Window) → i < length ws → x ≡ get_or ws i x → IsWalked a w d s (drop i ws) → IsWalkedInto a w d s x (drop (i + 1) ws)
walked-at a w d s ws i x h e W = walked-into a w d s x (drop (i + 1) ws) (subst (IsWalked a w d s) (left-at ws i x h e) W)

-- the walk at its end
walked-all : (a : Option Address) (w : ℕ) (d : List LocatedLine) (s : Sought) (ws : List Window) → ws ≡ [] → IsWalked a w d s ws → s ≡ seek (may_mean a) w nothing_seen d
walked-all a w d s ws e W =
    let none : W.rest ≡ [] = subst (λ z. AreWindows (concerns a) s.end W.rest z) e W.ahead.windows in
    sym (ap (seek (may_mean a) w s) none) ∙ W.walked

pub walked-over : (a : Option Address) (w : ℕ) (d : List LocatedLine) (s : Sought) (ws : List Window) → IsNumbered a → ws ≡ [] → w ≡ wanted a → IsFaithful d → IsWalked a w d s ws → IsSought (classed_lines (located_text d)) a s
walked-over a w d s ws i e f h W =
    let all : s ≡ seek (may_mean a) (wanted a) nothing_seen d = walked-all a w d s ws e W ∙ ap (λ n. seek (may_mean a) n nothing_seen d) f in
    subst (IsSought (classed_lines (located_text d)) a) (sym all) (lines-sought d a i h)
