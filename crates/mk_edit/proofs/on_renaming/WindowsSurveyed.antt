-- The walk that decides a rename goes over the lines of windows: the lines between them have no effect and do not hold the word.
use Rattle.std.proofs.Common.{◌≡◌, refl, sym, ap, ◌∙◌, subst, arith, ℕ, zero, suc, ◌+◌, ◌<◌, ◌≤◌, Bool, true, false, List, [], ◌∷◌, ◌++◌, drop, get_or, length, map, Option, Some, None}
use Rattle.std.specs.Prelude.{IfSome, if◌then◌else◌, ◌||◌}
use Rattle.std.proofs.lemmas.Bool.{ltb-false}
use Rattle.mk_lines.specs.Limits.{max_text}
use Rattle.mk_class.specs.Contexts.{Context, start, context_after_located}
use Rattle.mk_tree.specs.Admissions.{AreAdmitted}
use Rattle.mk_tree.specs.Documents.{IsFaithful}
use Rattle.mk_tree.specs.LocatedLines.{LocatedLine, size_of}
use Rattle.mk_tree.specs.Origins.{lines_between}
use Rattle.mk_edit_parts.specs.LocatedParts.{AreEachClassed, IsClassed, is_target_located, is_unread_located}
use Rattle.mk_edit_parts.specs.RenamedRanges.{renamed_ranges}
use Rattle.mk_edit_parts.specs.Windows.{AreWindows, NonePasses, below, below_all, concerns_rename, first_place}
use Rattle.mk_edit_parts.specs.declared.seek.Found.{Found}
use Rattle.mk_edit_parts.specs.declared.window.Window.{Window}
use Rattle.mk_edit_parts.proofs.on_finding.SeekLemmas.{faithful-each}
use Rattle.mk_edit_parts.proofs.on_finding.Walks.{each-from, each-front}
use Rattle.mk_edit_parts.proofs.on_finding.WindowLemmas.{AreAhead, IsPassed, ahead-first, ahead-next, left-at, passed-all, passed-by, passed-none, passed-one}
use Rattle.mk_edit.specs.RenameTargetEffects.{IsEffectTo, effect_of_line, effect_on, joined, no_effect}
use Rattle.mk_edit.specs.RenameTargetPatches.{AreHeldTo, HaveFewWords, HeldLine, held_line, held_places, held_places_from, held_view, holds_word, tally_of}
use Rattle.mk_edit.specs.declared.rename_target_effect.Effect.{Effect}
use Rattle.mk_edit.specs.declared.rename_target_places.Held.{Held}
use Rattle.mk_edit.proofs.on_renaming.PlacesNoted.{AreNoted, notes-all, word-absent}
use Rattle.mk_edit.proofs.on_renaming.SizesOfEffects.{document-few_words, effect-cons, none-joined, walk-over}

-- ---- lines that do not concern the rename

-- what is known of such a line
record IsUnconcerned (o n : List ℕ) (l : LocatedLine) : Type 0 where
  read : is_unread_located l ≡ false
  free : holds_word o l ≡ false
  other : is_target_located n l ≡ false

unconcerned : (o n : List ℕ) (l : LocatedLine) → concerns_rename o n l ≡ false → IsUnconcerned o n l
unconcerned o n l h = go (is_unread_located l) refl (holds_word o l) refl (is_target_located n l) refl h
  where
    go : (u : Bool) → is_unread_located l ≡ u → (w : Bool) → holds_word o l ≡ w → (t : Bool) → is_target_located n l ≡ t → (u || (w || t)) ≡ false → IsUnconcerned o n l
    go false e false f false g h = record { read = e; free = f; other = g }
    go false e false f true g h = absurd (cc)
    go false e true f t g h = absurd (cc)
    go true e w f t g h = absurd (cc)

module _ (o n : List ℕ) where
  -- it has no effect
  no-effect : (c : Context) (l : LocatedLine) → IsClassed l → IsUnconcerned o n l → effect_of_line o n c l ≡ no_effect
  no-effect c l k U =
      let none : length (renamed_ranges o l) ≤ 0 = ltb-false 0 (length (renamed_ranges o l)) U.free in
      word-absent o n c l (tally_of o l) k U.read refl (omega (arith, none)) ∙ ap (λ b. record no_effect { is_taken = b }) U.other

  -- nor have some such lines above others
  effect-gap : (f : Found) (gap ls : List LocatedLine) → AreEachClassed gap → NonePasses (concerns_rename o n) gap → effect_on o n f.context (gap ++ ls) ≡ effect_on o n (below_all f gap).context ls
  effect-gap f [] ls k h = refl
  effect-gap f (l ∷ gap) ls k h =
      let E = effect_on o n (below f l).context (gap ++ ls) in
      sym (effect-cons o n f.context l (gap ++ ls))
      ∙ (ap (λ (z : Effect). joined z E) (no-effect f.context l k.0 (unconcerned o n l h.0))
      ∙ (none-joined E ∙ effect-gap (below f l) gap ls k.1 h.1))

  -- and none of them is noted
  held-gap : (f : Found) (gap ls : List LocatedLine) → NonePasses (concerns_rename o n) gap → held_places_from o f.at f.context (gap ++ ls) ≡ held_places_from o (below_all f gap).at (below_all f gap).context ls
  held-gap f [] ls h = refl
  held-gap f (l ∷ gap) ls h =
      let B = held_places_from o (below f l).at (below f l).context (gap ++ ls) in
      ap (λ b. if b then held_line o f.at f.context l ∷ B else B) (unconcerned o n l h.0).free ∙ held-gap (below f l) gap ls h.1

  -- the effect so far is the same at both ends of a gap, and so are the places
  effect-over : (d gap ls : List LocatedLine) (f g : Found) (e : Effect) → AreEachClassed gap → NonePasses (concerns_rename o n) gap → drop f.at d ≡ gap ++ ls → g ≡ below_all f gap → drop g.at d ≡ ls → IsEffectTo o n d f e → IsEffectTo o n d g e
  effect-over d gap ls f g e k h s i t E =
      ap (λ z. joined e (effect_on o n g.context z)) t
      ∙ (ap (λ (z : Found). joined e (effect_on o n z.context ls)) i
      ∙ (ap (joined e) (sym (effect-gap f gap ls k h))
      ∙ (ap (λ z. joined e (effect_on o n f.context z)) (sym s) ∙ E)))

  held-over : (d gap ls : List LocatedLine) (f g : Found) (hs : List HeldLine) → NonePasses (concerns_rename o n) gap → drop f.at d ≡ gap ++ ls → g ≡ below_all f gap → drop g.at d ≡ ls → AreHeldTo o d f hs → AreHeldTo o d g hs
  held-over d gap ls f g hs h s i t E =
      ap (λ z. hs ++ held_places_from o g.at g.context z) t
      ∙ (ap (λ (z : Found). hs ++ held_places_from o z.at z.context ls) i
      ∙ (ap (λ z. hs ++ z) (sym (held-gap f gap ls h))
      ∙ (ap (λ z. hs ++ held_places_from o f.at f.context z) (sym s) ∙ E)))

-- ---- the lines of one window

few-from : (o : List ℕ) (n : ℕ) (ls : List LocatedLine) → HaveFewWords o ls → HaveFewWords o (drop n ls)
few-from o zero ls h = h
few-from o (suc n) [] h = tt
few-from o (suc n) (l ∷ ls) h = few-from o n ls h.1

module _ {A : _} {X : Type 0} (items : X → List (Held A)) (o n : List ℕ) (d : List LocatedLine) where
  -- A walk that has come from the place of a window to another place, and what it has surveyed. The words of each line ahead are
  -- few, and the context may be stepped over it.
  pub record IsSurveyedIn (from : Found) (at : ℕ) (c : Context) (ahead : List LocatedLine) (e : Effect) (notes : Option X) : Type 0 where
    pub passed : IsPassed d from (record { at = at; context = c }) ahead
    pub few : HaveFewWords o ahead
    pub admitted : AreAdmitted c ahead
    pub effect_is : joined e (effect_on o n c ahead) ≡ effect_on o n start d
    pub places_are : AreNoted items notes (held_places_from o at c ahead) (held_places o d)

  pub surveyed-first : (f : Found) (ahead : List LocatedLine) (e : Effect) (notes : Option X) → ahead ≡ drop f.at d → IsFaithful d → size_of d ≤ max_text → AreAdmitted f.context (drop f.at d) → IsEffectTo o n d f e
      → IfSome notes (λ p. AreHeldTo o d f (map held_view (items p))) → IsSurveyedIn f f.at f.context ahead e notes
  surveyed-first f ahead e notes s h few admitted i k =
      rw s (record { passed = passed-none d f; few = few-from o f.at d (document-few_words o d h few); admitted = admitted; effect_is = i; places_are = k })

  -- one line on
  pub surveyed-on : (from : Found) (at : ℕ) (c a : Context) (l : LocatedLine) (ahead left : List LocatedLine) (e g : Effect) (notes more : Option X) → ahead ≡ l ∷ left → a ≡ context_after_located c l.class → joined g (effect_on o n a left) ≡ effect_on o n start d
      → AreNoted items more (held_places_from o (at + 1) a left) (held_places o d) → IsSurveyedIn from at c ahead e notes → IsSurveyedIn from (at + 1) a left g more
  surveyed-on from at c a l ahead left e g notes more s k i w S =
      let few : HaveFewWords o (l ∷ left) = subst (HaveFewWords o) s S.few in
      let admitted : AreAdmitted c (l ∷ left) = subst (AreAdmitted c) s S.admitted in
      record {
        passed = passed-one d from (record { at = at; context = c }) (record { at = at + 1; context = a }) ahead left l s (ap (λ (z : Context). record { at = at + 1; context = z }) k) S.passed;
        few = few.1;
        admitted = subst (λ (z : Context). AreAdmitted z left) (sym k) admitted.1;
        effect_is = i;
        places_are = w;
      }

  -- the end of the window: the walk has come to it, or no line is ahead
  pub surveyed-all : (from : Found) (at count : ℕ) (c : Context) (ahead : List LocatedLine) (e : Effect) (notes : Option X) → ahead ≡ [] → from.at + count ≤ length d → at ≤ from.at + count → IsSurveyedIn from at c ahead e notes → at ≡ from.at + count
  surveyed-all from at count c ahead e notes s h few S =
      let all : at ≡ length d = passed-all d from (record { at = at; context = c }) ahead s (omega (arith, h)) S.passed in
      omega (arith, all, h, few)

  -- what is surveyed at the end of the window
  pub record IsSurveyedTo (f : Found) (e : Effect) (notes : Option X) : Type 0 where
    pub effect_is : IsEffectTo o n d f e
    pub places_are : IfSome notes (λ p. AreHeldTo o d f (map held_view (items p)))

  pub surveyed-last : (from : Found) (at count : ℕ) (c : Context) (ahead : List LocatedLine) (e : Effect) (notes : Option X) → at ≡ from.at + count → IsSurveyedIn from at c ahead e notes
      → IsSurveyedTo (below_all from (lines_between from.at count d)) e notes
  surveyed-last from at count c ahead e notes h S =
      let now : Found = record { at = at; context = c } in
      let P = passed-by d from now ahead count h S.passed in
      let effect : IsEffectTo o n d now e = ap (λ z. joined e (effect_on o n c z)) P.ahead_is ∙ S.effect_is in
      let places : IfSome notes (λ p. AreHeldTo o d now (map held_view (items p))) = subst (λ z. AreNoted items notes (held_places_from o at c z) (held_places o d)) (sym P.ahead_is) S.places_are in
      subst (λ (z : Found). IsSurveyedTo z e notes) P.now_is (record { effect_is = effect; places_are = places })

  -- ---- the windows

  -- A walk over windows, some of which are ahead, and what it has surveyed.
  pub record IsSurveyed (e : Effect) (notes : Option X) (ws : List Window) : Type 0 where
    pub place : Found
    pub rest : List LocatedLine
    pub ahead : AreAhead (concerns_rename o n) d place rest ws
    pub surveyed : IsSurveyedTo place e notes

  pub windows-first : (e : Effect) (p : X) (ws : List Window) → e ≡ no_effect → items p ≡ [] → AreAdmitted start d → AreWindows (concerns_rename o n) first_place d ws → IsSurveyed e (Some p) ws
  windows-first e p ws i k h w = record {
    place = first_place;
    rest = d;
    ahead = ahead-first (concerns_rename o n) d ws h w;
    surveyed = record {
      effect_is = ap (λ (z : Effect). joined z (effect_on o n start d)) i ∙ none-joined (effect_on o n start d);
      places_are = ap (λ z. map held_view z ++ held_places o d) k;
    };
  }

  -- what the next window asks, and the walk after it
  pub record IsSurveyedInto (e : Effect) (notes : Option X) (x : Window) (ws : List Window) : Type 0 where
    pub in_range : x.place.at + x.count ≤ length d
    pub admitted : AreAdmitted x.place.context (drop x.place.at d)
    pub surveyed : IsSurveyedTo x.place e notes
    pub next : (g : Effect) (more : Option X) → IsSurveyedTo (below_all x.place (lines_between x.place.at x.count d)) g more → IsSurveyed g more ws

  windows-into : (e : Effect) (notes : Option X) (x : Window) (ws : List Window) → IsFaithful d → IsSurveyed e notes (x ∷ ws) → IsSurveyedInto e notes x ws
  windows-into e notes x ws h S =
      let p = concerns_rename o n in
      let f = S.place in
      let A = ahead-next p d f S.rest x ws S.ahead in
      let below_gap = A.inside ++ A.after in
      let from : drop f.at d ≡ A.above ++ below_gap = S.ahead.rest_is ∙ A.lines_are in
      let classed : AreEachClassed A.above = each-front A.above below_gap (subst AreEachClassed from (each-from f.at d (faithful-each d h))) in
      record {
        in_range = A.in_range;
        admitted = A.admitted;
        surveyed = record {
          effect_is = effect-over o n d A.above below_gap f x.place e classed A.none_passes from A.place_is A.from_is S.surveyed.effect_is;
          places_are = go A.above below_gap notes from A.none_passes A.place_is A.from_is S.surveyed.places_are;
        };
        next = λ g more T. record {
          place = below_all x.place A.inside;
          rest = A.after;
          ahead = A.next;
          surveyed = subst (λ z. IsSurveyedTo (below_all x.place z) g more) A.inside_is T;
        };
      }
    where
      go : (gap ls : List LocatedLine) (notes : Option X) → drop S.place.at d ≡ gap ++ ls → NonePasses (concerns_rename o n) gap → x.place ≡ below_all S.place gap → drop x.place.at d ≡ ls
          → IfSome notes (λ p. AreHeldTo o d S.place (map held_view (items p))) → IfSome notes (λ p. AreHeldTo o d x.place (map held_view (items p)))
      go gap ls None s h i t k = tt
      go gap ls (Some p) s h i t k = held-over o n d gap ls S.place x.place (map held_view (items p)) h s i t k

  -- the window at an index
  pub windows-at : (e : Effect) (notes : Option X) (ws : List Window) (i : ℕ) (x : Window) → i < length ws → x ≡ get_or ws i x → IsFaithful d → IsSurveyed e notes (drop i ws) → IsSurveyedInto e notes x (drop (i + 1) ws)
  windows-at e notes ws i x h s f S = windows-into e notes x (drop (i + 1) ws) f (subst (IsSurveyed e notes) (left-at ws i x h s) S)

  -- the walk at its end
  pub record IsSurveyedWhole (e : Effect) (notes : Option X) : Type 0 where
    pub effect_is : e ≡ effect_on o n start d
    pub places_are : IfSome notes (λ p. map held_view (items p) ≡ held_places o d)

  pub windows-over : (e : Effect) (notes : Option X) (ws : List Window) → ws ≡ [] → IsSurveyed e notes ws → IsSurveyedWhole e notes
  windows-over e notes ws s S =
      let none : S.rest ≡ [] = subst (λ z. AreWindows (concerns_rename o n) S.place S.rest z) s S.ahead.windows in
      let left : drop S.place.at d ≡ [] = S.ahead.rest_is ∙ none in
      record {
        effect_is = walk-over o n e (effect_on o n start d) S.place.context (drop S.place.at d) left S.surveyed.effect_is;
        places_are = notes-all items o (held_places o d) S.place.at S.place.context (drop S.place.at d) notes left S.surveyed.places_are;
      }
