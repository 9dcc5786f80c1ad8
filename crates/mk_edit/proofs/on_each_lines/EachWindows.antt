-- The walk for an edit of several lines goes over the lines of windows, and over the recipes below them that it is in: the other lines
-- between the windows tell nothing.
use Rattle.std.proofs.Common.{◌≡◌, refl, sym, ap, ◌∙◌, subst, arith, ℕ, zero, suc, ◌+◌, ◌-◌, ◌^◌, ◌<◌, ◌≤◌, Bool, true, false, List, [], ◌∷◌, ◌++◌, append_assoc, drop, take, get_or, length, map, Option, Some}
use Rattle.std.specs.Prelude.{IfSome, not, nat_lt, if◌then◌else◌, ◌&&◌, ◌||◌}
use Rattle.std.proofs.lemmas.Bool.{or_parts}
use Rattle.std.proofs.lemmas.List.{drop-append-le, drop-drop, length-drop, take-append-drop}
use Rattle.std.proofs.Math.Bool.{or-false}
use Rattle.std.proofs.Math.Seq.{take-append_seam}
use Rattle.mk_lines.specs.Limits.{max_text}
use Rattle.mk_class.specs.Contexts.{start}
use Rattle.mk_tree.specs.Admissions.{AreAdmitted}
use Rattle.mk_tree.specs.LocatedLines.{LocatedLine, size_of}
use Rattle.mk_tree.proofs.Indices.{size_of-append}
use Rattle.mk_edit_language.specs.Addresses.{each_address}
use Rattle.mk_edit_language.specs.EachLine.{each_change}
use Rattle.mk_edit_language.specs.Edits.{EachEdit, ChangeEach, SubstValues, SubstRecipe, SubstRecipes}
use Rattle.mk_edit_parts.specs.EachLineWalks.{is_meant_located, reach_after, reach_by, stays_located}
use Rattle.mk_edit_parts.specs.LocatedParts.{is_unread_located}
use Rattle.mk_edit_parts.specs.RecipeWalks.{is_recipe_located}
use Rattle.mk_edit_parts.specs.Seeking.{may_mean}
use Rattle.mk_edit_parts.specs.Windows.{AreWindows, NonePasses, below, below_all, concerns_each, first_place}
use Rattle.mk_edit_parts.specs.declared.each_line.Reach.{Reach}
use Rattle.mk_edit_parts.specs.declared.seek.Found.{Found}
use Rattle.mk_edit_parts.specs.declared.window.Window.{Window}
use Rattle.mk_edit_parts.proofs.on_finding.WindowLemmas.{AreAhead, IsAhead, ahead-first, ahead-next, below_all-at, left-at}
use Rattle.mk_edit.specs.EachLineSurveys.{IsSurveyedTo, findings_on, found_by, found_with, no_places, noted_from, noted_line, noted_lines, noted_view, nothing_found, places_counted, places_meant}
use Rattle.mk_edit.specs.declared.each_line_count.PlaceCount.{PlaceCount}
use Rattle.mk_edit.specs.declared.each_line_notes.Noted.{Noted}
use Rattle.mk_edit.specs.declared.each_line_survey.Findings.{Findings}
use Rattle.mk_edit.proofs.on_each_lines.EachWalks.{notes-all, notes-kept}

-- ---- lines that do not concern the edit, outside of a recipe that it means

-- such a line is not read as one that the edit means, or that decides which it means
record IsOther (e : EachEdit) (r : Reach) (l : LocatedLine) : Type 0 where
  unmeant : is_meant_located e r l ≡ false
  uncounted : may_mean (each_address e) l ≡ false
  plain : is_unread_located l ≡ false

other-line : (e : EachEdit) (r : Reach) (l : LocatedLine) → r.is_in_rule ≡ false → concerns_each e l ≡ false → IsOther e r l
other-line (ChangeEach n c) r l u h = let k = or_parts _ _ h in record { unmeant = k.0; uncounted = k.0; plain = k.1 }
other-line (SubstRecipe nth g f t) r l u h =
    let k = or_parts _ _ h in
    record { unmeant = ap (λ b. b && is_recipe_located l.class) u; uncounted = k.0; plain = k.1 }
other-line (SubstValues f t) r l u h = absurd (cc)
other-line (SubstRecipes f t) r l u h = absurd (cc)

module _ (e : EachEdit) where
  same-reach : (r : Reach) (l : LocatedLine) → r.is_in_rule ≡ false → IsOther e r l → reach_after e l r ≡ r
  same-reach r l u h =
      ap (λ b. reach_by (each_address e) b (stays_located l.class) r) h.uncounted
      ∙ (ap (λ b. record { count = r.count; is_in_rule = b && stays_located l.class }) u ∙ ap (λ b. record { count = r.count; is_in_rule = b }) (sym u))

  no-places : (r : Reach) (l : LocatedLine) → IsOther e r l → places_meant e r l ≡ no_places
  no-places r l h = ap (λ b. if b then places_counted (each_change e) l else no_places) h.unmeant

  -- nothing is found in it
  same-found : (f : Findings) (l : LocatedLine) → f.reach.is_in_rule ≡ false → f.put ≤ 2 ^ 64 - 1 → IsOther e f.reach l → found_by e l (places_meant e f.reach l) f ≡ f
  same-found f l u few h =
      let unread : (f.has_unread_prefix || is_unread_located l) ≡ f.has_unread_prefix = ap (λ b. f.has_unread_prefix || b) h.plain ∙ or-false f.has_unread_prefix in
      let taken : f.taken + 0 ≡ f.taken = omega arith in
      let put : (found_by e l no_places f).put ≡ f.put = omega (arith, few) in
      ap (λ (q : PlaceCount). found_by e l q f) (no-places f.reach l h)
      ∙ (ap (λ b. record (found_by e l no_places f) { has_unread_prefix = b }) unread
      ∙ (ap (λ (r : Reach). record (found_by e l no_places f) { has_unread_prefix = f.has_unread_prefix; reach = r }) (same-reach f.reach l u h)
      ∙ (ap (λ n. record f { taken = n; put = (found_by e l no_places f).put }) taken ∙ ap (λ n. record f { put = n }) put)))

  found-gap : (f : Findings) (gap ls : List LocatedLine) → f.reach.is_in_rule ≡ false → f.put ≤ 2 ^ 64 - 1 → NonePasses (concerns_each e) gap → found_with e f (gap ++ ls) ≡ found_with e f ls
  found-gap f [] ls u few h = refl
  found-gap f (l ∷ gap) ls u few h = ap (λ (z : Findings). found_with e z (gap ++ ls)) (same-found f l u few (other-line e f.reach l u h.0)) ∙ found-gap f gap ls u few h.1

  -- and none of them is noted
  noted-gap : (r : Reach) (p : Found) (gap ls : List LocatedLine) → r.is_in_rule ≡ false → NonePasses (concerns_each e) gap → noted_from e r p.at p.context (gap ++ ls) ≡ noted_from e r (below_all p gap).at (below_all p gap).context ls
  noted-gap r p [] ls u h = refl
  noted-gap r p (l ∷ gap) ls u h =
      let O = other-line e r l u h.0 in
      let B = noted_from e (reach_after e l r) (below p l).at (below p l).context (gap ++ ls) in
      ap (λ (q : PlaceCount). if nat_lt 0 q.count then noted_line p.at p.context l q ∷ B else B) (no-places r l O)
      ∙ (ap (λ (z : Reach). noted_from e z (below p l).at (below p l).context (gap ++ ls)) (same-reach r l u O) ∙ noted-gap r (below p l) gap ls u h.1)

-- what is left of such lines behind the first of them
none-left : (p : LocatedLine → Bool) (m : ℕ) (ls : List LocatedLine) → NonePasses p ls → NonePasses p (drop m ls)
none-left p zero ls h = h
none-left p (suc m) [] h = tt
none-left p (suc m) (l ∷ ls) h = none-left p m ls h.1

-- ---- places of a document

abbrev IsPlace : (document : List LocatedLine) → Found → Type 0
IsPlace d p = p ≡ below_all first_place (take p.at d)

-- no two places have one index
place-same : (d : List LocatedLine) (p q : Found) → IsPlace d p → IsPlace d q → p.at ≡ q.at → p ≡ q
place-same d p q h k s = h ∙ (ap (λ n. below_all first_place (take n d)) s ∙ sym k)

below-more : (p : Found) (xs ys : List LocatedLine) → below_all p (xs ++ ys) ≡ below_all (below_all p xs) ys
below-more p [] ys = refl
below-more p (l ∷ xs) ys = below-more (below p l) xs ys

place-below : (d : List LocatedLine) (p : Found) (xs ys : List LocatedLine) → IsPlace d p → drop p.at d ≡ xs ++ ys → IsPlace d (below_all p xs)
place-below d p xs ys h s =
    let above : List LocatedLine = take p.at d in
    let all : List LocatedLine = above ++ xs in
    let parted : d ≡ all ++ ys = sym (take-append-drop p.at d) ∙ (ap (λ z. above ++ z) s ∙ sym (append_assoc above xs ys)) in
    let same : below_all p xs ≡ below_all first_place all = ap (λ (z : Found). below_all z xs) h ∙ sym (below-more first_place above xs) in
    let number : (below_all p xs).at ≡ length all = omega (arith, ap (λ (z : Found). z.at) same, below_all-at first_place all) in
    let taken : take (below_all p xs).at d ≡ all = ap (λ n. take n d) number ∙ (ap (take (length all)) parted ∙ take-append_seam all ys) in
    same ∙ ap (below_all first_place) (sym taken)

-- ---- the windows

module _ {A : _} {X : Type 0} (items : X → List (Noted A)) (e : EachEdit) (d : List LocatedLine) where
  -- A walk over windows, some of which are ahead, and what it has found.
  pub record IsWalked (place : Found) (f : Findings) (notes : Option X) (ws : List Window) : Type 0 where
    pub rest : List LocatedLine
    pub ahead : AreAhead (concerns_each e) d place rest ws
    pub surveyed : IsSurveyedTo e d place f items notes

  pub windows-first : (place : Found) (f : Findings) (p : X) (ws : List Window) → place ≡ first_place → f ≡ nothing_found → items p ≡ [] → size_of d ≤ max_text → AreAdmitted start d → AreWindows (concerns_each e) first_place d ws → IsWalked place f (Some p) ws
  windows-first place f p ws y i k few h w =
      rw y (rw i (record {
        rest = d;
        ahead = ahead-first (concerns_each e) d ws h w;
        surveyed = record {
          place_is = refl;
          few_lines = omega arith;
          few_passed = omega arith;
          few_put = omega arith;
          room = omega (arith, few);
          findings_are = refl;
          notes_are = ap (λ z. map noted_view z ++ noted_lines e d) k;
        };
      }))

  -- The walk has gone on through the lines above a window, until it left the recipe that it was in, or came to the window.
  gap-crossed : (from p : Found) (f : Findings) (notes : Option X) (rest : List LocatedLine) (w : Window) (ws : List Window) → IsPlace d from → drop from.at d ≡ rest → IsAhead (concerns_each e) d from rest w ws → from.at ≤ p.at → p.at ≤ w.place.at
      → f.reach.is_in_rule ≡ false → IsSurveyedTo e d p f items notes → IsSurveyedTo e d w.place f items notes
  gap-crossed from p f notes rest w ws h r H low up u S =
      let below_gap = H.inside ++ H.after in
      let m : ℕ = p.at - from.at in
      let gap : List LocatedLine = drop m H.above in
      let window_at : w.place.at ≡ from.at + length H.above = ap (λ (z : Found). z.at) H.place_is ∙ below_all-at from H.above in
      let inside : m ≤ length H.above = omega (arith, low, up, window_at) in
      let all : drop from.at d ≡ H.above ++ below_gap = r ∙ H.lines_are in
      let number : from.at + m ≡ p.at = omega (arith, low) in
      let ahead : drop p.at d ≡ gap ++ below_gap = ap (λ n. drop n d) (sym number) ∙ (sym (drop-drop m from.at d) ∙ (ap (drop m) all ∙ drop-append-le m H.above below_gap inside)) in
      let window_is : IsPlace d w.place = subst (IsPlace d) (sym H.place_is) (place-below d from H.above below_gap h all) in
      let gap_at : (below_all p gap).at ≡ w.place.at = omega (arith, below_all-at p gap, length-drop m H.above, window_at, number, inside) in
      let place_is : below_all p gap ≡ w.place = place-same d (below_all p gap) w.place (place-below d p gap below_gap S.place_is ahead) window_is gap_at in
      let none : NonePasses (concerns_each e) gap = none-left (concerns_each e) m H.above H.none_passes in
      record {
        place_is = window_is;
        few_lines = omega (arith, S.few_lines, up);
        few_passed = omega (arith, S.few_passed, up);
        few_put = S.few_put;
        room = omega (arith, S.room, ap size_of ahead, size_of-append gap below_gap, ap size_of H.from_is);
        findings_are = ap (found_with e f) H.from_is ∙ (sym (found-gap e f gap below_gap u S.few_put none) ∙ (ap (found_with e f) (sym ahead) ∙ S.findings_are));
        notes_are =
            notes-kept items notes (noted_from e f.reach p.at p.context (drop p.at d)) (noted_from e f.reach w.place.at w.place.context (drop w.place.at d)) (noted_lines e d)
            (ap (noted_from e f.reach p.at p.context) ahead
            ∙ (noted-gap e f.reach p gap below_gap u none
            ∙ (ap (λ (z : Found). noted_from e f.reach z.at z.context below_gap) place_is ∙ ap (noted_from e f.reach w.place.at w.place.context) (sym H.from_is))))
            S.notes_are;
      }

  -- what the next window asks, the walk that has come to it, and the walk after it
  pub record IsWalkedInto (place : Found) (f : Findings) (notes : Option X) (w : Window) (ws : List Window) : Type 0 where
    pub lower : place.at ≤ w.place.at
    pub admitted : AreAdmitted place.context (drop place.at d)
    pub admitted_in : AreAdmitted w.place.context (drop w.place.at d)
    pub in_range : w.place.at + w.count ≤ length d
    pub surveyed : IsSurveyedTo e d place f items notes
    pub passed : f.reach.is_in_rule ≡ false → IsSurveyedTo e d w.place f items notes
    pub crossed : (p : Found) (g : Findings) (more : Option X) → place.at ≤ p.at → p.at ≤ w.place.at → (not g.reach.is_in_rule ≡ false → p.at ≡ w.place.at) → IsSurveyedTo e d p g items more → IsSurveyedTo e d w.place g items more
    pub next : (q : Found) (g : Findings) (more : Option X) → q.at ≡ w.place.at + w.count → IsSurveyedTo e d q g items more → IsWalked q g more ws

  windows-into : (place : Found) (f : Findings) (notes : Option X) (w : Window) (ws : List Window) → IsWalked place f notes (w ∷ ws) → IsWalkedInto place f notes w ws
  windows-into place f notes w ws W = record {
    lower = H.lower;
    admitted = subst (AreAdmitted place.context) (sym W.ahead.rest_is) W.ahead.admitted;
    admitted_in = H.admitted;
    in_range = H.in_range;
    surveyed = W.surveyed;
    passed = λ u. gap-crossed place place f notes W.rest w ws W.surveyed.place_is W.ahead.rest_is H (omega arith) H.lower u W.surveyed;
    crossed = λ p g more low up over S. on p g more low up over S g.reach.is_in_rule refl;
    next = λ q g more s S.
        let same : below_all w.place H.inside ≡ q = place-same d (below_all w.place H.inside) q (place-below d w.place H.inside H.after window_is H.from_is) S.place_is (omega (arith, below_all-at w.place H.inside, H.count_is, s)) in
        record { rest = H.after; ahead = subst (λ (z : Found). AreAhead (concerns_each e) d z H.after ws) same H.next; surveyed = S };
  }
    where
      H : IsAhead (concerns_each e) d place W.rest w ws
      H = ahead-next (concerns_each e) d place W.rest w ws W.ahead

      window_is : IsPlace d w.place
      window_is = subst (IsPlace d) (sym H.place_is) (place-below d place H.above (H.inside ++ H.after) W.surveyed.place_is (W.ahead.rest_is ∙ H.lines_are))

      on : (p : Found) (g : Findings) (more : Option X) → place.at ≤ p.at → p.at ≤ w.place.at → (not g.reach.is_in_rule ≡ false → p.at ≡ w.place.at) → IsSurveyedTo e d p g items more → (b : Bool) → g.reach.is_in_rule ≡ b → IsSurveyedTo e d w.place g items more
      on p g more low up over S true u = subst (λ (z : Found). IsSurveyedTo e d z g items more) (place-same d p w.place S.place_is window_is (over (ap not u))) S
      on p g more low up over S false u = gap-crossed place p g more W.rest w ws W.surveyed.place_is W.ahead.rest_is H low up u S

  -- the window at an index
  pub windows-at : (place : Found) (f : Findings) (notes : Option X) (ws : List Window) (i : ℕ) (w : Window) → i < length ws → w ≡ get_or ws i w → IsWalked place f notes (drop i ws) → IsWalkedInto place f notes w (drop (i + 1) ws)
  windows-at place f notes ws i w h s W = windows-into place f notes w (drop (i + 1) ws) (subst (IsWalked place f notes) (left-at ws i w h s) W)

  -- the walk at its end
  pub record IsWalkedWhole (f : Findings) (notes : Option X) : Type 0 where
    pub findings_are : f ≡ findings_on e d
    pub few : f.taken ≤ max_text
    pub notes_are : IfSome notes (λ p. map noted_view (items p) ≡ noted_lines e d)

  pub windows-over : (place : Found) (f : Findings) (notes : Option X) (ws : List Window) → ws ≡ [] → IsWalked place f notes ws → IsWalkedWhole f notes
  windows-over place f notes ws s W =
      let none : W.rest ≡ [] = subst (λ z. AreWindows (concerns_each e) place W.rest z) s W.ahead.windows in
      let left : drop place.at d ≡ [] = W.ahead.rest_is ∙ none in
      record {
        findings_are = ap (found_with e f) (sym left) ∙ W.surveyed.findings_are;
        few = omega (arith, W.surveyed.room);
        notes_are = notes-all items notes _ (noted_lines e d) (ap (noted_from e f.reach place.at place.context) left) W.surveyed.notes_are;
      }
