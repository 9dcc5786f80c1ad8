-- The stretches that a site may mean, by the lines or the runs that they stand at, and the windows of a document where they are.
use Rattle.std.proofs.Common.{◌≡◌, refl, sym, ap, ◌∙◌, subst, arith, ℕ, ◌+◌, ◌≤◌, not, true, false, List, [], ◌∷◌, ◌++◌, append_assoc, map, length, length-append, take, Option, Some, None, option_map, is_some}
use Rattle.std.specs.Prelude.{MatchOption, Vec}
use Rattle.std.proofs.lemmas.List.{length-map}
use Rattle.std.proofs.Math.Seq.{take-append_seam}
use Rattle.mk_class.proofs.on_symbols.ListMaps.{is_empty-map}
use Rattle.mk_class.specs.ClassedLines.{ClassedLine, classed_lines}
use Rattle.mk_tree.specs.Documents.{IsFaithful, context_of}
use Rattle.mk_tree.specs.LocatedLines.{LocatedLine, located_text}
use Rattle.mk_tree.specs.LineTexts.{StandingLine}
use Rattle.mk_edit_language.specs.Edits.{Place, Top, Bottom, BeforeVar, AfterVar, AfterLastVar, BeforeRule, AfterRule, Site, AtPlace, BeforeRun, AfterRun}
use Rattle.mk_edit_language.specs.Spots.{nth_of, picked}
use Rattle.mk_edit_language.specs.Addresses.{Address, Variable, LastVariable, Rule, candidates, found, nth_meant, place_address}
use Rattle.mk_edit_language.specs.EditViews.{site_of}
use Rattle.mk_edit_language.specs.declared.edit.Site as sites
use Rattle.mk_edit_language.specs.declared.edit.Site.TheVariants as site
use Rattle.mk_edit_language.specs.Stretches.{Stretch, before_line, after_line, after_rule, top, bottom, place_found}
use Rattle.mk_edit_language.specs.LineRuns.{before_run, after_run, place_stretches, runs, site_number, site_stretches}
use Rattle.mk_edit_language.specs.Causes.{where_holds}
use Rattle.mk_edit_language.specs.AddressCauses.{is_missing, is_several, no_such_line, ambiguous_line}
use Rattle.mk_edit_language.specs.RuleCauses.{straddles_at}
use Rattle.mk_edit_language.specs.ExchangeCauses.{has_no_stretch, has_several_stretches, straddles_at_site}
use Rattle.mk_edit_language.specs.Refusals.{first_cause}
use Rattle.mk_edit_language.specs.declared.refusal.Refusal.{Refusal}
use Rattle.mk_edit_language.specs.declared.refusal.Refusal.TheVariants.{NoSuch, Ambiguous}
use Rattle.mk_edit_language.proofs.on_edits.Accepted.{where_holds-none}
use Rattle.mk_edit_parts.specs.Found.{IsPicked, IsNotPicked, IsPlaceOf}
use Rattle.mk_edit_parts.specs.NewPlaces.{IsInsertedAt}
use Rattle.mk_edit_parts.specs.LineRunsFound.{IsRunAt, AreRunMatches}
use Rattle.mk_edit_parts.specs.Seeking.{wanted_of}
use Rattle.mk_edit_parts.specs.SitesFound.{IsStretchAt, IsOneAt, IsNotOne, IsNotNew, IsOfNew, no_lines}
use Rattle.mk_edit_parts.specs.declared.line_run.RunMatches.{RunMatches}
use Rattle.mk_edit_parts.specs.declared.seek.Found.{Found}
use Rattle.mk_edit_parts.specs.declared.window.Window.{Window}
use Rattle.mk_edit_parts.proofs.on_finding.SeekLemmas.{nth-map}
use Rattle.mk_edit_parts.proofs.CauseLemmas.{passed, holds}
use Rattle.mk_edit_parts.proofs.on_line_runs.RunsMatched.{length-faithful}

-- ---- windows of a document

-- a stretch of the text stands within the document, at a place of it
pub stretch-in_range : (d : List LocatedLine) (s : Stretch) (w : Window) → IsFaithful d → IsStretchAt (classed_lines (located_text d)) s w → w.place.at + w.count ≤ length d
stretch-in_range d s w f S =
    omega (arith, length-faithful d f, ap length S.stretch_is, length-append s.above (s.lines ++ s.below), length-append s.lines s.below, S.place_is, S.count_is)

pub place-in_range : (d : List LocatedLine) (s : Stretch) (f : Found) → IsFaithful d → IsStretchAt (classed_lines (located_text d)) s (no_lines f) → f.at ≤ length d
place-in_range d s f faithful S = omega (arith, stretch-in_range d s (no_lines f) faithful S)

pub stretch-place : (d : List LocatedLine) (s : Stretch) (w : Window) → IsStretchAt (classed_lines (located_text d)) s w → IsPlaceOf d w.place
stretch-place d s w S =
    ap (λ z. context_of (take w.place.at z)) S.stretch_is
    ∙ (ap (λ n. context_of (take n (s.above ++ (s.lines ++ s.below)))) (sym S.place_is) ∙ (ap context_of (take-append_seam s.above (s.lines ++ s.below)) ∙ S.context_is))

-- its start, and its end
stretch-start : (ls : List ClassedLine) (s : Stretch) (w : Window) → IsStretchAt ls s w → IsStretchAt ls (before_run s) (no_lines w.place)
stretch-start ls s w S = record { stretch_is = S.stretch_is; place_is = S.place_is; context_is = S.context_is; count_is = refl }

stretch-end : (d : List LocatedLine) (s : Stretch) (w : Window) (f : Found) → IsStretchAt (classed_lines (located_text d)) s w → f.at ≡ w.place.at + w.count → IsPlaceOf d f
    → IsStretchAt (classed_lines (located_text d)) (after_run s) (no_lines f)
stretch-end d s w f S e p =
    let whole : classed_lines (located_text d) ≡ (s.above ++ s.lines) ++ s.below = S.stretch_is ∙ sym (append_assoc s.above s.lines s.below) in
    let at : length (s.above ++ s.lines) ≡ f.at = omega (arith, length-append s.above s.lines, S.place_is, S.count_is, e) in
    let front : take f.at (classed_lines (located_text d)) ≡ s.above ++ s.lines =
    ap (take f.at) whole ∙ (ap (λ n. take n ((s.above ++ s.lines) ++ s.below)) (sym at) ∙ take-append_seam (s.above ++ s.lines) s.below) in
    record { stretch_is = whole; place_is = at; context_is = ap context_of (sym front) ∙ p; count_is = refl }

-- ---- one of a list that is mapped

pub picked-map : {A B : Type 0} (f : A → B) (nth : Option ℕ) (xs : List A) → picked nth (map f xs) ≡ option_map f (picked nth xs)
picked-map f None [] = refl
picked-map f None (x ∷ []) = refl
picked-map f None (x ∷ y ∷ xs) = refl
picked-map f (Some n) xs = nth-map f n xs

some-map : {A B : Type 0} (f : A → B) (o : Option A) → is_some (option_map f o) ≡ is_some o
some-map f None = refl
some-map f (Some x) = refl

-- by lines
pub missing-lines : (f : StandingLine → Stretch) (nth : Option ℕ) (ss : List StandingLine) → has_no_stretch nth (map f ss) ≡ is_missing nth ss
missing-lines f None ss = is_empty-map f ss
missing-lines f (Some n) ss = ap (λ o. not (is_some o)) (nth-map f n ss) ∙ ap not (some-map f (nth_of n ss))

pub several-lines : (f : StandingLine → Stretch) (nth : Option ℕ) (ss : List StandingLine) → has_several_stretches nth (map f ss) ≡ is_several nth ss
several-lines f None [] = refl
several-lines f None (s ∷ []) = refl
several-lines f None (s ∷ r ∷ ss) = refl
several-lines f (Some n) ss = refl

-- by runs
missing-runs : (f : Stretch → Stretch) (nth : Option ℕ) (ss : List Stretch) → has_no_stretch nth (map f ss) ≡ has_no_stretch nth ss
missing-runs f None ss = is_empty-map f ss
missing-runs f (Some n) ss = ap (λ o. not (is_some o)) (nth-map f n ss) ∙ ap not (some-map f (nth_of n ss))

several-runs : (f : Stretch → Stretch) (nth : Option ℕ) (ss : List Stretch) → has_several_stretches nth (map f ss) ≡ has_several_stretches nth ss
several-runs f None [] = refl
several-runs f None (s ∷ []) = refl
several-runs f None (s ∷ r ∷ ss) = refl
several-runs f (Some n) ss = refl

-- ---- places

-- a place means an empty stretch
place-empty : (ls : List ClassedLine) (p : Place) (s : Stretch) → place_found ls p ≡ Some s → s.lines ≡ []
place-empty ls p s e = go p e
  where
    mapped : (at : StandingLine → Stretch) → ((x : StandingLine) → (at x).lines ≡ []) → (o : Option StandingLine) → option_map at o ≡ Some s → s.lines ≡ []
    mapped at h None e = absurd (cc)
    mapped at h (Some x) e = let k : at x ≡ s = cc in ap (λ (z : Stretch). z.lines) (sym k) ∙ h x

    go : (p : Place) → place_found ls p ≡ Some s → s.lines ≡ []
    go Top e = let k : top ls ≡ s = cc in ap (λ (z : Stretch). z.lines) (sym k)
    go Bottom e = let k : bottom ls ≡ s = cc in ap (λ (z : Stretch). z.lines) (sym k)
    go (BeforeVar nth n) e = mapped before_line (λ x. refl) (found ls (Variable nth n)) e
    go (AfterVar nth n) e = mapped after_line (λ x. refl) (found ls (Variable nth n)) e
    go (AfterLastVar n) e = mapped after_line (λ x. refl) (found ls (LastVariable n)) e
    go (BeforeRule nth g) e = mapped before_line (λ x. refl) (found ls (Rule nth g)) e
    go (AfterRule nth g) e = mapped after_rule (λ x. refl) (found ls (Rule nth g)) e

-- the stretch of a place is that of a site at it
place-picked : (ls : List ClassedLine) (p : Place) → picked (site_number (AtPlace p)) (place_stretches ls p) ≡ place_found ls p
place-picked ls Top = refl
place-picked ls Bottom = refl
place-picked ls (BeforeVar nth n) = picked-map before_line nth (candidates ls (Variable nth n))
place-picked ls (AfterVar nth n) = picked-map after_line nth (candidates ls (Variable nth n))
place-picked ls (AfterLastVar n) = picked-map after_line None (candidates ls (LastVariable n))
place-picked ls (BeforeRule nth g) = picked-map before_line nth (candidates ls (Rule nth g))
place-picked ls (AfterRule nth g) = picked-map after_rule nth (candidates ls (Rule nth g))

-- one of some stretches is meant
record IsOneOf (nth : Option ℕ) (ss : List Stretch) : Type 0 where
  is_there : has_no_stretch nth ss ≡ false
  is_one : has_several_stretches nth ss ≡ false

-- if one line is meant, one stretch is
line-one : (ls : List ClassedLine) (a : Address) (at : StandingLine → Stretch) → no_such_line ls (Some a) ≡ None → ambiguous_line ls (Some a) ≡ None → IsOneOf (nth_meant a) (map at (candidates ls a))
line-one ls a at h k =
    let ss = candidates ls a in
    record {
      is_there = missing-lines at (nth_meant a) ss ∙ where_holds-none (is_missing (nth_meant a) ss) NoSuch h;
      is_one = several-lines at (nth_meant a) ss ∙ where_holds-none (is_several (nth_meant a) ss) (Ambiguous (length ss)) k;
    }

place-one_of : (ls : List ClassedLine) (p : Place) → no_such_line ls (place_address p) ≡ None → ambiguous_line ls (place_address p) ≡ None → IsOneOf (site_number (AtPlace p)) (place_stretches ls p)
place-one_of ls Top h k = record { is_there = refl; is_one = refl }
place-one_of ls Bottom h k = record { is_there = refl; is_one = refl }
place-one_of ls (BeforeVar nth n) h k = line-one ls (Variable nth n) before_line h k
place-one_of ls (AfterVar nth n) h k = line-one ls (Variable nth n) after_line h k
place-one_of ls (AfterLastVar n) h k = line-one ls (LastVariable n) after_line h k
place-one_of ls (BeforeRule nth g) h k = line-one ls (Rule nth g) before_line h k
place-one_of ls (AfterRule nth g) h k = line-one ls (Rule nth g) after_rule h k

pub place-one : (d : List LocatedLine) (p : Place) (f g : Found) → IsPicked (classed_lines (located_text d)) (place_address p) f → IsInsertedAt d (place_found (classed_lines (located_text d)) p) g
    → IsOneAt (classed_lines (located_text d)) (site_number (AtPlace p)) (place_stretches (classed_lines (located_text d)) p) (no_lines g)
place-one d p f g P N =
    let ls = classed_lines (located_text d) in
    let s = N.stretch in
    let empty : s.lines ≡ [] = place-empty ls p s N.stretch_is in
    let O = place-one_of ls p P.is_there P.is_one in
    record {
      stretch = s;
      picked_is = place-picked ls p ∙ N.stretch_is;
      is_there = O.is_there;
      is_one = O.is_one;
      meant = record {
        stretch_is = N.whole ∙ ap (λ z. s.above ++ (z ++ s.below)) (sym empty);
        place_is = N.place_is;
        context_is = N.context_is;
        count_is = ap length empty;
      };
    }

-- no one line is meant, so no stretch is
pub line-not_one : (ls : List ClassedLine) (a : Address) (at : StandingLine → Stretch) (r : Refusal) → IsNotPicked ls (Some a) r → IsNotOne (nth_meant a) (map at (candidates ls a)) r
line-not_one ls a at r h =
    let ss = candidates ls a in
    ap (λ b. first_cause (where_holds b NoSuch ∷ where_holds (has_several_stretches (nth_meant a) (map at ss)) (Ambiguous (length (map at ss))) ∷ [])) (missing-lines at (nth_meant a) ss)
    ∙ (ap (λ b. first_cause (where_holds (is_missing (nth_meant a) ss) NoSuch ∷ where_holds b (Ambiguous (length (map at ss))) ∷ [])) (several-lines at (nth_meant a) ss)
    ∙ (ap (λ n. first_cause (where_holds (is_missing (nth_meant a) ss) NoSuch ∷ where_holds (is_several (nth_meant a) ss) (Ambiguous n) ∷ [])) (length-map ss at) ∙ h))

place-not_one : (ls : List ClassedLine) (p : Place) (r : Refusal) → IsNotPicked ls (place_address p) r → IsNotOne (site_number (AtPlace p)) (place_stretches ls p) r
place-not_one ls Top r h = absurd (cc)
place-not_one ls Bottom r h = absurd (cc)
place-not_one ls (BeforeVar nth n) r h = line-not_one ls (Variable nth n) before_line r h
place-not_one ls (AfterVar nth n) r h = line-not_one ls (Variable nth n) after_line r h
place-not_one ls (AfterLastVar n) r h = line-not_one ls (LastVariable n) after_line r h
place-not_one ls (BeforeRule nth t) r h = line-not_one ls (Rule nth t) before_line r h
place-not_one ls (AfterRule nth t) r h = line-not_one ls (Rule nth t) after_rule r h

-- one cause more
one-more : (n m e : Option Refusal) (r : Refusal) → first_cause (n ∷ m ∷ []) ≡ Some r → first_cause (n ∷ m ∷ e ∷ []) ≡ Some r
one-more (Some q) m e r h = h
one-more None (Some q) e r h = h
one-more None None e r h = absurd (cc)

pub place-not_picked : (ls : List ClassedLine) (p : Place) (r : Refusal) → IsNotPicked ls (place_address p) r → IsNotNew ls (AtPlace p) r
place-not_picked ls p r h = one-more _ _ _ r (place-not_one ls p r h)

-- the rule is split after which new lines go
pub place-split : (ls : List ClassedLine) (p : Place) (f : Found) (r : Refusal) → IsPicked ls (place_address p) f → straddles_at ls p ≡ Some r → IsNotNew ls (AtPlace p) r
place-split ls p f r P h =
    let O = place-one_of ls p P.is_there P.is_one in
    passed _ _ (Some r) (ap (λ b. where_holds b NoSuch) O.is_there) (passed _ _ (Some r) (ap (λ b. where_holds b (Ambiguous (length (place_stretches ls p)))) O.is_one) (holds _ [] r h))

-- ---- runs

-- there is none, or none of the number
pub run-missing : (ls : List ClassedLine) (b : List (List ℕ)) (nth : Option ℕ) (m : RunMatches) → AreRunMatches ls b nth m → is_some m.found ≡ false → has_no_stretch nth (runs b ls) ≡ true
run-missing ls b nth m A h = missing nth (runs b ls) (none m.found h A.found_is)
  where
    none : (o : Option Window) → is_some o ≡ false → MatchOption o (nth_of (wanted_of nth) (runs b ls) ≡ None) (λ (x : Window). IsRunAt ls b (wanted_of nth) x) → nth_of (wanted_of nth) (runs b ls) ≡ None
    none None h e = e
    none (Some x) h e = absurd (cc)

    missing : (nth : Option ℕ) (ss : List Stretch) → nth_of (wanted_of nth) ss ≡ None → has_no_stretch nth ss ≡ true
    missing None [] e = refl
    missing None (x ∷ ss) e = absurd (cc)
    missing (Some n) ss e = ap (λ o. not (is_some o)) e

pub run-there : (ls : List ClassedLine) (b : List (List ℕ)) (nth : Option ℕ) (m : RunMatches) → AreRunMatches ls b nth m → is_some m.found ≡ true → has_no_stretch nth (runs b ls) ≡ false
run-there ls b nth m A h = some m.found h A.found_is
  where
    there : (nth : Option ℕ) (ss : List Stretch) (s : Stretch) → nth_of (wanted_of nth) ss ≡ Some s → has_no_stretch nth ss ≡ false
    there None [] s e = absurd (cc)
    there None (x ∷ ss) s e = refl
    there (Some n) ss s e = ap (λ o. not (is_some o)) e

    some : (o : Option Window) → is_some o ≡ true → MatchOption o (nth_of (wanted_of nth) (runs b ls) ≡ None) (λ (x : Window). IsRunAt ls b (wanted_of nth) x) → has_no_stretch nth (runs b ls) ≡ false
    some None h e = absurd (cc)
    some (Some x) h R = there nth (runs b ls) R.run R.run_is

-- the start of a run, and its end
start-one : (ls : List ClassedLine) (nth : Option ℕ) (ss : List Stretch) (w : Window) → IsOneAt ls nth ss w → IsOneAt ls nth (map before_run ss) (no_lines w.place)
start-one ls nth ss w R = record {
  stretch = before_run R.stretch;
  picked_is = picked-map before_run nth ss ∙ ap (option_map before_run) R.picked_is;
  is_there = missing-runs before_run nth ss ∙ R.is_there;
  is_one = several-runs before_run nth ss ∙ R.is_one;
  meant = stretch-start ls R.stretch w R.meant;
}

end-one : (d : List LocatedLine) (nth : Option ℕ) (ss : List Stretch) (w : Window) (f : Found) → IsOneAt (classed_lines (located_text d)) nth ss w → f.at ≡ w.place.at + w.count → IsPlaceOf d f
    → IsOneAt (classed_lines (located_text d)) nth (map after_run ss) (no_lines f)
end-one d nth ss w f R e p = record {
  stretch = after_run R.stretch;
  picked_is = picked-map after_run nth ss ∙ ap (option_map after_run) R.picked_is;
  is_there = missing-runs after_run nth ss ∙ R.is_there;
  is_one = several-runs after_run nth ss ∙ R.is_one;
  meant = stretch-end d R.stretch w f R.meant e p;
}

runs-not_one : (f : Stretch → Stretch) (nth : Option ℕ) (ss : List Stretch) (r : Refusal) → IsNotOne nth ss r → IsNotOne nth (map f ss) r
runs-not_one f nth ss r h =
    ap (λ b. first_cause (where_holds b NoSuch ∷ where_holds (has_several_stretches nth (map f ss)) (Ambiguous (length (map f ss))) ∷ [])) (missing-runs f nth ss)
    ∙ (ap (λ b. first_cause (where_holds (has_no_stretch nth ss) NoSuch ∷ where_holds b (Ambiguous (length (map f ss))) ∷ [])) (several-runs f nth ss)
    ∙ (ap (λ n. first_cause (where_holds (has_no_stretch nth ss) NoSuch ∷ where_holds (has_several_stretches nth ss) (Ambiguous n) ∷ [])) (length-map ss f) ∙ h))

-- ---- sites

-- the stretch of each kind of site
pub site-place : (ls : List ClassedLine) (s : Site) (p : Place) (w : Window) → s ≡ AtPlace p → IsOneAt ls (site_number (AtPlace p)) (place_stretches ls p) w → IsOneAt ls (site_number s) (site_stretches ls s) w
site-place ls s p w e R = subst (λ z. IsOneAt ls (site_number z) (site_stretches ls z) w) (sym e) R

pub site-before : (ls : List ClassedLine) (s : Site) (nth : Option ℕ) (o : List (List ℕ)) (w : Window) → s ≡ BeforeRun nth o → IsOneAt ls nth (runs o ls) w → IsOneAt ls (site_number s) (site_stretches ls s) (no_lines w.place)
site-before ls s nth o w e R = subst (λ z. IsOneAt ls (site_number z) (site_stretches ls z) (no_lines w.place)) (sym e) (start-one ls nth (runs o ls) w R)

pub site-after : (d : List LocatedLine) (s : Site) (nth : Option ℕ) (o : List (List ℕ)) (w : Window) (f : Found) → s ≡ AfterRun nth o → IsOneAt (classed_lines (located_text d)) nth (runs o (classed_lines (located_text d))) w
    → f.at ≡ w.place.at + w.count → IsPlaceOf d f → IsOneAt (classed_lines (located_text d)) (site_number s) (site_stretches (classed_lines (located_text d)) s) (no_lines f)
site-after d s nth o w f e R i p =
    let ls = classed_lines (located_text d) in
    subst (λ z. IsOneAt ls (site_number z) (site_stretches ls z) (no_lines f)) (sym e) (end-one d nth (runs o ls) w f R i p)

-- or none of them is meant
pub site-not_place : (ls : List ClassedLine) (s : Site) (p : Place) (r : Refusal) → s ≡ AtPlace p → IsNotNew ls (AtPlace p) r → IsNotNew ls s r
site-not_place ls s p r e h = subst (λ z. IsNotNew ls z r) (sym e) h

pub site-not_before : (ls : List ClassedLine) (s : Site) (nth : Option ℕ) (o : List (List ℕ)) (r : Refusal) → s ≡ BeforeRun nth o → IsNotOne nth (runs o ls) r → IsNotNew ls s r
site-not_before ls s nth o r e h = subst (λ z. IsNotNew ls z r) (sym e) (one-more _ _ None r (runs-not_one before_run nth (runs o ls) r h))

pub site-not_after : (ls : List ClassedLine) (s : Site) (nth : Option ℕ) (o : List (List ℕ)) (r : Refusal) → s ≡ AfterRun nth o → IsNotOne nth (runs o ls) r → IsNotNew ls s r
site-not_after ls s nth o r e h = subst (λ z. IsNotNew ls z r) (sym e) (one-more _ _ None r (runs-not_one after_run nth (runs o ls) r h))

-- no rule is split there
pub site-whole : (ls : List ClassedLine) (s q : Site) → s ≡ q → straddles_at_site ls q ≡ None → straddles_at_site ls s ≡ None
site-whole ls s q e h = ap (straddles_at_site ls) e ∙ h

-- a site that is no run
pub site-new : {A : _} (s : sites.Site A) → ((nth : Option ℕ) (old : Vec ℕ A) → s ≡ site.OfLines nth old → ⊥) → ((nth : Option ℕ) (target : Vec ℕ A) → s ≡ site.OfRule nth target → ⊥)
    → IsOfNew (site_of s)
site-new (site.AtPlace p) h k = tt
site-new (site.BeforeLines nth old) h k = tt
site-new (site.AfterLines nth old) h k = tt
site-new (site.OfLines nth old) h k = absurd (h nth old refl)
site-new (site.OfRule nth target) h k = absurd (k nth target refl)
