-- The walk that decides a change of values goes over the lines of windows: the lines between them tell nothing.
use Rattle.std.proofs.Common.{◌≡◌, refl, sym, ap, ◌∙◌, subst, arith, ℕ, ◌+◌, ◌*◌, ◌<◌, ◌≤◌, Bool, true, false, List, [], ◌∷◌, ◌++◌, append-nil, append_assoc, drop, get_or, length, length-append, map, Option, Some, None, option_map}
use Rattle.std.specs.Prelude.{IfSome, if◌then◌else◌, ◌||◌, ◌&&◌, ◌-◌, ◌==◌}
use Rattle.std.proofs.lemmas.List.{map-append}
use Rattle.std.proofs.Math.Bool.{or-false}
use Rattle.mk_lines.specs.Limits.{max_text}
use Rattle.mk_class.specs.Contexts.{Admits, Context, start, context_after_located}
use Rattle.mk_class.specs.declared.class.Class as class
use Rattle.mk_class.specs.declared.class.Class.TheVariants as variants
use Rattle.mk_tree.specs.Admissions.{AreAdmitted}
use Rattle.mk_tree.specs.Documents.{IsFaithful}
use Rattle.mk_tree.specs.LocatedLines.{LocatedLine, size_of}
use Rattle.mk_tree.specs.Origins.{lines_between}
use Rattle.mk_tree.proofs.Indices.{size_of-append}
use Rattle.mk_edit_language.specs.Edits.{ValueChange, Set, SetIf, Append, Add, Remove}
use Rattle.mk_edit_parts.specs.LineRanges.{value_range_located}
use Rattle.mk_edit_parts.specs.LocatedParts.{AreEachClassed, IsClassed, assigns_located, is_unread_located}
use Rattle.mk_edit_parts.specs.Windows.{AreWindows, NonePasses, below, below_all, concerns_name, first_place}
use Rattle.mk_edit_parts.specs.declared.seek.Found.{Found}
use Rattle.mk_edit_parts.specs.declared.window.Window.{Window}
use Rattle.mk_edit_parts.proofs.on_finding.SeekLemmas.{faithful-each}
use Rattle.mk_edit_parts.proofs.on_finding.Walks.{each-from}
use Rattle.mk_edit_parts.proofs.on_finding.WindowLemmas.{AreAhead, IsPassed, ahead-first, ahead-next, left-at, passed-all, passed-by, passed-none, passed-one}
use Rattle.mk_edit_parts.proofs.on_prerequisites.RawPartLemmas.{raw-within}
use Rattle.mk_edit.specs.ChangeValuesSurveys.{IsSurveyedTo, MeantLine, findings_on, found_by, found_so, found_with, meant_places, meant_places_from, meant_view, nothing_found}
use Rattle.mk_edit.specs.ValueChangeLines.{has_effect_located, is_changed_located, is_open_located, spared_by, value_text_located}
use Rattle.mk_edit.specs.declared.change_values_places.Meant.{Meant}
use Rattle.mk_edit.specs.declared.change_values_survey.Findings.{Findings}

-- ---- lines that do not concern the name

module _ (n : List ℕ) (c : ValueChange) where
  -- nothing is found in such a line
  same-found : (f : Findings) (l : LocatedLine) → concerns_name n l ≡ false → found_by n c l f ≡ f
  same-found f l h = go (assigns_located n l) (is_unread_located l) h
    where
      none : found_so false false false (is_open_located c l) (spared_by c l) f ≡ f
      none =
          ap (λ (b : Bool). record f { has_unread_prefix = b; is_there = f.is_there || false }) (or-false f.has_unread_prefix)
          ∙ ap (λ (b : Bool). record f { is_there = b }) (or-false f.is_there)

      go : (t u : Bool) → (t || u) ≡ false → found_so u t (t && has_effect_located c l) (is_open_located c l) (spared_by c l) f ≡ f
      go false false h = none
      go false true h = absurd (cc)
      go true u h = absurd (cc)

  not-changed : (l : LocatedLine) → concerns_name n l ≡ false → is_changed_located n c l ≡ false
  not-changed l h = go (assigns_located n l) h
    where
      go : (t : Bool) → (t || is_unread_located l) ≡ false → (t && has_effect_located c l) ≡ false
      go false h = refl
      go true h = absurd (cc)

  found-gap : (f : Findings) (gap ls : List LocatedLine) → NonePasses (concerns_name n) gap → found_with n c f (gap ++ ls) ≡ found_with n c f ls
  found-gap f [] ls h = refl
  found-gap f (l ∷ gap) ls h = ap (λ (z : Findings). found_with n c z (gap ++ ls)) (same-found f l h.0) ∙ found-gap f gap ls h.1

  -- and none of them is noted
  meant-gap : (p : Found) (gap ls : List LocatedLine) → NonePasses (concerns_name n) gap → meant_places_from n c p.at p.context (gap ++ ls) ≡ meant_places_from n c (below_all p gap).at (below_all p gap).context ls
  meant-gap p [] ls h = refl
  meant-gap p (l ∷ gap) ls h =
      let B = meant_places_from n c (below p l).at (below p l).context (gap ++ ls) in
      let here : MeantLine = record { place = record { at = p.at; context = p.context }; line = l } in
      ap (λ b. if b then here ∷ B else B) (not-changed l h.0) ∙ meant-gap (below p l) gap ls h.1

-- ---- what is spared of a line

space-few : (b : Bool) (l : LocatedLine) → (if b then 1 else 0) ≤ length l.bytes + 1
space-few true l = omega arith
space-few false l = omega arith

set-few : (v : List ℕ) (l : LocatedLine) → spared_by (Set v) l ≤ length l.bytes + 1
set-few v l = go l.class
  where
    wide : (s e : ℕ) → e ≤ length l.bytes → e - s ≤ length l.bytes + 1
    wide s e h = omega (arith, h)

    none : 0 - 0 ≤ length l.bytes + 1
    none = omega arith

    go : (k : class.Class) → (value_range_located (length v == 0) (record { bytes = l.bytes; class = k })).end - (value_range_located (length v == 0) (record { bytes = l.bytes; class = k })).start ≤ length l.bytes + 1
    go (variants.Assign a p) = wide _ _ (raw-within l.bytes (if length v == 0 then a.end else a.value.end))
    go (variants.Header x) = none
    go (variants.TargetAssign t) = none
    go (variants.DefineHead u) = none
    go variants.Endef = none
    go (variants.Body d) = none
    go variants.Recipe = none
    go variants.Opaque = none
    go variants.Blank = none
    go variants.Comment = none
    go variants.If = none
    go variants.Else = none
    go variants.Endif = none
    go variants.Directive = none
    go variants.Rough = none

pub spared-few : (c : ValueChange) (l : LocatedLine) → spared_by c l ≤ length l.bytes + 1
spared-few (Set v) l = set-few v l
spared-few (SetIf o v) l = set-few v l
spared-few (Append v) l = space-few (length (value_text_located l) == 0) l
spared-few (Add w) l = space-few (length (value_text_located l) == 0) l
spared-few (Remove w) l = omega arith

-- ---- the notes

-- with the places among the lines ahead, notes are all places; the notes may have been dropped
abbrev AreMeant : {A : _} {X : Type 0} (items : X → List (Meant A)) → (notes : Option X) → (ahead all : List MeantLine) → Type 0
AreMeant items notes ahead all = IfSome notes (λ p. map meant_view (items p) ++ ahead ≡ all)

meant-kept : {A : _} {X : Type 0} (items : X → List (Meant A)) (notes : Option X) (ahead left all : List MeantLine) → ahead ≡ left → AreMeant items notes ahead all → AreMeant items notes left all
meant-kept items None ahead left all h k = tt
meant-kept items (Some p) ahead left all h k = ap (λ z. map meant_view (items p) ++ z) (sym h) ∙ k

meant-more : {A : _} {X : Type 0} (items : X → List (Meant A)) (before after : Option X) (m : Meant A) (ahead left all : List MeantLine) → ahead ≡ meant_view m ∷ left → IfSome after (λ q. Some (items q) ≡ option_map (λ p. items p ++ m ∷ []) before)
    → AreMeant items before ahead all → AreMeant items after left all
meant-more items before None m ahead left all h w k = tt
meant-more items None (Some q) m ahead left all h w k = absurd (cc)
meant-more items (Some p) (Some q) m ahead left all h w k =
    let i : items q ≡ items p ++ m ∷ [] = cc in
    let noted : List MeantLine = map meant_view (items p) in
    ap (λ z. z ++ left) (ap (map meant_view) i ∙ map-append meant_view (items p) (m ∷ [])) ∙ (append_assoc noted (meant_view m ∷ []) left ∙ (ap (λ z. noted ++ z) (sym h) ∙ k))

-- ---- the lines of one window

module _ {A : _} {X : Type 0} (items : X → List (Meant A)) (n : List ℕ) (c : ValueChange) (d : List LocatedLine) where
  -- A walk that has come from the place of a window to another place, and what it has found.
  pub record IsWalkedIn (from : Found) (at : ℕ) (x : Context) (ahead : List LocatedLine) (f : Findings) (notes : Option X) : Type 0 where
    pub passed : IsPassed d from (record { at = at; context = x }) ahead
    pub classed : AreEachClassed ahead
    pub admitted : AreAdmitted x ahead
    pub few : f.lines ≤ at
    pub room : f.spared + (size_of ahead + length ahead) ≤ 2 * max_text
    pub findings_are : found_with n c f ahead ≡ findings_on n c d
    pub places_are : AreMeant items notes (meant_places_from n c at x ahead) (meant_places n c d)

  pub walked-first : (p : Found) (ahead : List LocatedLine) (f : Findings) (notes : Option X) → ahead ≡ drop p.at d → IsFaithful d → AreAdmitted p.context (drop p.at d) → IsSurveyedTo n c d p f items notes
      → IsWalkedIn p p.at p.context ahead f notes
  walked-first p ahead f notes s h admitted S =
      rw s (record {
        passed = passed-none d p;
        classed = each-from p.at d (faithful-each d h);
        admitted = admitted;
        few = S.few;
        room = S.room;
        findings_are = S.findings_are;
        places_are = S.places_are;
      })

  -- A line that is handed out, and the walk after it.
  pub record IsLineWalked (from : Found) (at : ℕ) (x : Context) (l : LocatedLine) (left : List LocatedLine) (f : Findings) (notes : Option X) : Type 0 where
    pub classed : IsClassed l
    pub admits : Admits x l.class
    pub few_lines : f.lines ≤ at
    pub room : f.spared + spared_by c l ≤ 2 * max_text + 1
    pub kept : (a : Context) (g : Findings) → a ≡ context_after_located x l.class → g ≡ found_by n c l f → is_changed_located n c l ≡ false → IsWalkedIn from (at + 1) a left g notes
    pub more : (a : Context) (g : Findings) (m : Meant A) (after : Option X) → a ≡ context_after_located x l.class → g ≡ found_by n c l f → is_changed_located n c l ≡ true
        → meant_view m ≡ record { place = record { at = at; context = x }; line = l } → IfSome after (λ q. Some (items q) ≡ option_map (λ p. items p ++ m ∷ []) notes) → IsWalkedIn from (at + 1) a left g after

  pub line-walked : (from : Found) (at : ℕ) (x : Context) (l : LocatedLine) (ahead left : List LocatedLine) (f : Findings) (notes : Option X) → ahead ≡ l ∷ left → IsWalkedIn from at x ahead f notes → IsLineWalked from at x l left f notes
  line-walked from at x l ahead left f notes s W = record {
    classed = each-classed.0;
    admits = each-admitted.0;
    few_lines = W.few;
    room = omega (arith, W.room, ap size_of s, spared-few c l);
    kept = λ a g k e u. on a g notes k e (meant-kept items notes _ (meant_places_from n c (at + 1) a left) (meant_places n c d) (ahead-are a false k u) W.places_are);
    more = λ a g m after k e u v w. on a g after k e (meant-more items notes after m _ (meant_places_from n c (at + 1) a left) (meant_places n c d) (ahead-are a true k u ∙ ap (λ (z : MeantLine). z ∷ meant_places_from n c (at + 1) a left) (sym v)) w W.places_are);
  }
    where
      each-classed : AreEachClassed (l ∷ left)
      each-classed = subst AreEachClassed s W.classed

      each-admitted : AreAdmitted x (l ∷ left)
      each-admitted = subst (AreAdmitted x) s W.admitted

      here : MeantLine
      here = record { place = record { at = at; context = x }; line = l }

      -- the places among the lines ahead, by whether the first of them is changed
      with_here : Bool → List MeantLine → List MeantLine
      with_here b ms = if b then here ∷ ms else ms

      ahead-are : (a : Context) (b : Bool) → a ≡ context_after_located x l.class → is_changed_located n c l ≡ b → meant_places_from n c at x ahead ≡ with_here b (meant_places_from n c (at + 1) a left)
      ahead-are a b k u =
          ap (meant_places_from n c at x) s
          ∙ (ap (λ z. with_here z (meant_places_from n c (at + 1) (context_after_located x l.class) left)) u ∙ ap (λ (z : Context). with_here b (meant_places_from n c (at + 1) z left)) (sym k))

      few-on : (b : Bool) → (if b then f.lines + 1 else f.lines) ≤ at + 1
      few-on true = omega (arith, W.few)
      few-on false = omega (arith, W.few)

      room-on : (b : Bool) → (if b then f.spared + spared_by c l else f.spared) + (size_of left + length left) ≤ 2 * max_text
      room-on true = omega (arith, W.room, ap size_of s, ap length s, spared-few c l)
      room-on false = omega (arith, W.room, ap size_of s, ap length s)

      on : (a : Context) (g : Findings) (more : Option X) → a ≡ context_after_located x l.class → g ≡ found_by n c l f → AreMeant items more (meant_places_from n c (at + 1) a left) (meant_places n c d) → IsWalkedIn from (at + 1) a left g more
      on a g more k e w =
          record {
            passed = passed-one d from (record { at = at; context = x }) (record { at = at + 1; context = a }) ahead left l s (ap (λ (z : Context). record { at = at + 1; context = z }) k) W.passed;
            classed = each-classed.1;
            admitted = subst (λ (z : Context). AreAdmitted z left) (sym k) each-admitted.1;
            few = subst (λ (z : Findings). z.lines ≤ at + 1) (sym e) (few-on (is_changed_located n c l));
            room = subst (λ (z : Findings). z.spared + (size_of left + length left) ≤ 2 * max_text) (sym e) (room-on (is_changed_located n c l));
            findings_are = ap (λ (z : Findings). found_with n c z left) e ∙ (ap (found_with n c f) (sym s) ∙ W.findings_are);
            places_are = w;
          }

  -- the end of the window: the walk has come to it, or no line is ahead
  pub walked-all : (from : Found) (at count : ℕ) (x : Context) (ahead : List LocatedLine) (f : Findings) (notes : Option X) → ahead ≡ [] → from.at + count ≤ length d → at ≤ from.at + count → IsWalkedIn from at x ahead f notes → at ≡ from.at + count
  walked-all from at count x ahead f notes s h few W =
      let all : at ≡ length d = passed-all d from (record { at = at; context = x }) ahead s (omega (arith, h)) W.passed in
      omega (arith, all, h, few)

  pub walked-last : (from : Found) (at count : ℕ) (x : Context) (ahead : List LocatedLine) (f : Findings) (notes : Option X) → at ≡ from.at + count → IsWalkedIn from at x ahead f notes
      → IsSurveyedTo n c d (below_all from (lines_between from.at count d)) f items notes
  walked-last from at count x ahead f notes h W =
      let now : Found = record { at = at; context = x } in
      let P = passed-by d from now ahead count h W.passed in
      let S : IsSurveyedTo n c d now f items notes = record {
        few = W.few;
        room = subst (λ z. f.spared + (size_of z + length z) ≤ 2 * max_text) (sym P.ahead_is) W.room;
        findings_are = ap (found_with n c f) P.ahead_is ∙ W.findings_are;
        places_are = subst (λ z. AreMeant items notes (meant_places_from n c at x z) (meant_places n c d)) (sym P.ahead_is) W.places_are;
      } in
      subst (λ (z : Found). IsSurveyedTo n c d z f items notes) P.now_is S

  -- ---- the windows

  -- A walk over windows, some of which are ahead, and what it has found.
  pub record IsWalked (f : Findings) (notes : Option X) (ws : List Window) : Type 0 where
    pub place : Found
    pub rest : List LocatedLine
    pub ahead : AreAhead (concerns_name n) d place rest ws
    pub surveyed : IsSurveyedTo n c d place f items notes

  pub windows-first : (f : Findings) (p : X) (ws : List Window) → f ≡ nothing_found → items p ≡ [] → size_of d ≤ max_text → length d ≤ size_of d → AreAdmitted start d → AreWindows (concerns_name n) first_place d ws → IsWalked f (Some p) ws
  windows-first f p ws i k few some h w =
      rw i (record {
        place = first_place;
        rest = d;
        ahead = ahead-first (concerns_name n) d ws h w;
        surveyed = record {
          few = omega arith;
          room = omega (arith, few, some);
          findings_are = refl;
          places_are = ap (λ z. map meant_view z ++ meant_places n c d) k;
        };
      })

  -- what the next window asks, and the walk after it
  pub record IsWalkedInto (f : Findings) (notes : Option X) (w : Window) (ws : List Window) : Type 0 where
    pub in_range : w.place.at + w.count ≤ length d
    pub admitted : AreAdmitted w.place.context (drop w.place.at d)
    pub surveyed : IsSurveyedTo n c d w.place f items notes
    pub next : (g : Findings) (more : Option X) → IsSurveyedTo n c d (below_all w.place (lines_between w.place.at w.count d)) g items more → IsWalked g more ws

  windows-into : (f : Findings) (notes : Option X) (w : Window) (ws : List Window) → IsWalked f notes (w ∷ ws) → IsWalkedInto f notes w ws
  windows-into f notes w ws W =
      let p = concerns_name n in
      let S = W.surveyed in
      let A = ahead-next p d W.place W.rest w ws W.ahead in
      let below_gap = A.inside ++ A.after in
      let from : drop W.place.at d ≡ A.above ++ below_gap = W.ahead.rest_is ∙ A.lines_are in
      record {
        in_range = A.in_range;
        admitted = A.admitted;
        surveyed = record {
          few = omega (arith, S.few, A.lower);
          room = omega (arith, S.room, ap size_of from, size_of-append A.above below_gap, ap length from, length-append A.above below_gap, ap size_of A.from_is, ap length A.from_is);
          findings_are = ap (found_with n c f) A.from_is ∙ (sym (found-gap n c f A.above below_gap A.none_passes) ∙ (ap (found_with n c f) (sym from) ∙ S.findings_are));
          places_are =
              meant-kept items notes (meant_places_from n c W.place.at W.place.context (drop W.place.at d)) (meant_places_from n c w.place.at w.place.context (drop w.place.at d)) (meant_places n c d)
              (ap (meant_places_from n c W.place.at W.place.context) from
              ∙ (meant-gap n c W.place A.above below_gap A.none_passes
              ∙ (ap (λ (z : Found). meant_places_from n c z.at z.context below_gap) (sym A.place_is) ∙ ap (meant_places_from n c w.place.at w.place.context) (sym A.from_is))))
              S.places_are;
        };
        next = λ g more T. record {
          place = below_all w.place A.inside;
          rest = A.after;
          ahead = A.next;
          surveyed = subst (λ z. IsSurveyedTo n c d (below_all w.place z) g items more) A.inside_is T;
        };
      }

  -- the window at an index
  pub windows-at : (f : Findings) (notes : Option X) (ws : List Window) (i : ℕ) (w : Window) → i < length ws → w ≡ get_or ws i w → IsWalked f notes (drop i ws) → IsWalkedInto f notes w (drop (i + 1) ws)
  windows-at f notes ws i w h s W = windows-into f notes w (drop (i + 1) ws) (subst (IsWalked f notes) (left-at ws i w h s) W)

  -- the walk at its end
  pub record IsWalkedWhole (f : Findings) (notes : Option X) : Type 0 where
    pub findings_are : f ≡ findings_on n c d
    pub few : f.spared ≤ 2 * max_text
    pub places_are : IfSome notes (λ p. map meant_view (items p) ≡ meant_places n c d)

  notes-all : (notes : Option X) (ahead : List MeantLine) → ahead ≡ [] → AreMeant items notes ahead (meant_places n c d) → IfSome notes (λ p. map meant_view (items p) ≡ meant_places n c d)
  notes-all None ahead s k = tt
  notes-all (Some p) ahead s k = sym (append-nil (map meant_view (items p))) ∙ (ap (λ z. map meant_view (items p) ++ z) (sym s) ∙ k)

  pub windows-over : (f : Findings) (notes : Option X) (ws : List Window) → ws ≡ [] → IsWalked f notes ws → IsWalkedWhole f notes
  windows-over f notes ws s W =
      let none : W.rest ≡ [] = subst (λ z. AreWindows (concerns_name n) W.place W.rest z) s W.ahead.windows in
      let left : drop W.place.at d ≡ [] = W.ahead.rest_is ∙ none in
      record {
        findings_are = ap (found_with n c f) (sym left) ∙ W.surveyed.findings_are;
        few = omega (arith, W.surveyed.room);
        places_are = notes-all notes _ (ap (meant_places_from n c W.place.at W.place.context) left) W.surveyed.places_are;
      }
