-- The run of a rule that goes for new lines: the causes by what the code asks, and the lines of the run.
use Rattle.std.proofs.Common.{◌≡◌, refl, sym, ap, ◌∙◌, arith, ℕ, ◌+◌, ◌<◌, ◌≤◌, true, false, not, List, [], ◌∷◌, length, Option, Some, None, option_map, is_some}
use Rattle.std.specs.Prelude.{slice_get, unwrap_or}
use Rattle.std.proofs.lemmas.Bool.{lt-ltb, le-ltb}
use Rattle.mk_class.specs.ClassedLines.{ClassedLine, classed_lines}
use Rattle.mk_tree.specs.Documents.{IsFaithful, context_of}
use Rattle.mk_tree.specs.LocatedLines.{LocatedLine, located_text}
use Rattle.mk_tree.specs.LineTexts.{StandingLine}
use Rattle.mk_tree.specs.RecipeLines.{recipe_run}
use Rattle.mk_edit_language.specs.Edits.{OfRuleRun}
use Rattle.mk_edit_language.specs.Addresses.{Rule, candidates}
use Rattle.mk_edit_language.specs.Causes.{where_holds}
use Rattle.mk_edit_language.specs.AddressCauses.{is_missing, is_several}
use Rattle.mk_edit_language.specs.ExchangeCauses.{shared_at_site, straddles_at_site}
use Rattle.mk_edit_language.specs.LineRuns.{is_in_run, site_found}
use Rattle.mk_edit_language.specs.Refusals.{first_cause}
use Rattle.mk_edit_language.specs.RuleRuns.{run_below, under_header, run_of_rule, run_or_header, has_no_run}
use Rattle.mk_edit_language.specs.Stretches.{Stretch, this_line}
use Rattle.mk_edit_language.specs.declared.refusal.Refusal.{Refusal}
use Rattle.mk_edit_language.specs.declared.refusal.Refusal.TheVariants.{NoSuch, Ambiguous, Already, SharedRule, Straddles}
use Rattle.mk_edit_language.proofs.on_edits.Accepted.{where_holds-none}
use Rattle.mk_edit_language.proofs.on_line_runs.SitesFound.{site-stretch}
use Rattle.mk_edit_parts.specs.Found.{IsPicked}
use Rattle.mk_edit_parts.specs.RecipeWalks.{lines_from, header_targets_located}
use Rattle.mk_edit_parts.specs.SitesFound.{IsSited, IsStretchAt, causes_of_fields, causes_of_site}
use Rattle.mk_edit_parts.specs.declared.seek.Found.{Found}
use Rattle.mk_edit_parts.proofs.CauseLemmas.{passed, holds}
use Rattle.mk_edit_parts.proofs.on_line_runs.SiteCauses.{one-rule}
use Rattle.mk_edit_parts.proofs.on_line_runs.SiteStretches.{missing-lines, several-lines, picked-map, stretch-in_range, stretch-place}
use Rattle.mk_edit_parts.proofs.on_recipes.RulePlaces.{IsRuleAt, rule-at, shared-told}

-- ---- the run below a header

-- the number of lines of a run, if there is one
abbrev run_length : List ClassedLine → Option ℕ
run_length ls = option_map (λ (z : Stretch). length z.lines) (run_below 0 (length (recipe_run ls)) ls)

-- a run that has so many lines below the header
record IsRunThere (s : StandingLine) (n : ℕ) : Type 0 where
  lines_below : Stretch
  run_is : run_of_rule s ≡ Some (under_header s lines_below)
  count_is : length lines_below.lines ≡ n

run-there : (s : StandingLine) (ls : List ClassedLine) (n : ℕ) → ls ≡ s.below → Some n ≡ run_length ls → IsRunThere s n
run-there s ls n e h = go (run_below 0 (length (recipe_run s.below)) s.below) refl (h ∙ ap run_length e)
  where
    go : (o : Option Stretch) → run_below 0 (length (recipe_run s.below)) s.below ≡ o → Some n ≡ option_map (λ (z : Stretch). length z.lines) o → IsRunThere s n
    go None i k = absurd (cc)
    go (Some q) i k = let m : n ≡ length q.lines = cc in record { lines_below = q; run_is = ap (option_map (under_header s)) i; count_is = sym m }

run-missing : (s : StandingLine) (ls : List ClassedLine) → ls ≡ s.below → None ≡ run_length ls → has_no_run (Some s) ≡ true
run-missing s ls e h = go (run_below 0 (length (recipe_run s.below)) s.below) (h ∙ ap run_length e)
  where
    go : (o : Option Stretch) → None ≡ option_map (λ (z : Stretch). length z.lines) o → not (is_some (option_map (under_header s) o)) ≡ true
    go None k = refl
    go (Some q) k = absurd (cc)

-- ---- the rule

module _ (d : List LocatedLine) (nth : Option ℕ) (g : List ℕ) (ts : List (List ℕ)) (f : Found) (h : IsFaithful d) (P : IsPicked (classed_lines (located_text d)) (Some (Rule nth g)) f)
    (free : first_cause (causes_of_fields (located_text d) (OfRuleRun nth g) ts) ≡ None) where
  abbrev t : List ℕ
  t = located_text d

  abbrev ls : List ClassedLine
  ls = classed_lines t

  abbrev R : IsRuleAt d nth g f
  R = rule-at d nth g f h P.is_there P.is_one P.meant

  -- the lines that go
  abbrev pub gone : Stretch
  gone = run_or_header R.spot

  is-found : site_found ls (OfRuleRun nth g) ≡ Some gone
  is-found = picked-map run_or_header nth (candidates ls (Rule nth g)) ∙ ap (option_map run_or_header) R.found_is

  -- the causes that are left, once one rule is meant
  left : (o : Option Refusal) → first_cause (shared_at_site ls (OfRuleRun nth g) ∷ straddles_at_site ls (OfRuleRun nth g) ∷ where_holds (is_in_run ts ls gone) Already ∷ []) ≡ o
      → first_cause (causes_of_site t (OfRuleRun nth g) ts) ≡ o
  left o k =
      let ss = candidates ls (Rule nth g) in
      one-rule nth g ts t gone o free
      (missing-lines run_or_header nth ss ∙ where_holds-none (is_missing nth ss) NoSuch P.is_there)
      (several-lines run_or_header nth ss ∙ where_holds-none (is_several nth ss) (Ambiguous (length ss)) P.is_one)
      is-found k

  -- several targets
  pub rule-shared : (l : LocatedLine) (n : ℕ) → Some l ≡ slice_get d f.at → n ≡ length (header_targets_located l) → 1 < n → first_cause (causes_of_site t (OfRuleRun nth g) ts) ≡ Some (SharedRule n)
  rule-shared l n i k m = left (Some (SharedRule n)) (holds _ _ (SharedRule n) (shared-told d nth g f l n R i k ∙ ap (λ b. where_holds b (SharedRule n)) (lt-ltb 1 n m)))

  one-target : (l : LocatedLine) (n : ℕ) → Some l ≡ slice_get d f.at → n ≡ length (header_targets_located l) → n ≤ 1 → shared_at_site ls (OfRuleRun nth g) ≡ None
  one-target l n i k m = shared-told d nth g f l n R i k ∙ ap (λ b. where_holds b (SharedRule n)) (le-ltb 1 n m)

  -- no run
  pub rule-split : (l : LocatedLine) (n : ℕ) → Some l ≡ slice_get d f.at → n ≡ length (header_targets_located l) → n ≤ 1 → None ≡ run_length (lines_from d (f.at + 1))
      → first_cause (causes_of_site t (OfRuleRun nth g) ts) ≡ Some Straddles
  rule-split l n i k m e =
      left (Some Straddles) (passed _ _ (Some Straddles) (one-target l n i k m)
      (holds _ _ Straddles (ap (λ o. where_holds (has_no_run o) Straddles) R.found_is ∙ ap (λ b. where_holds b Straddles) (run-missing R.spot (lines_from d (f.at + 1)) R.below_is e))))

  -- What is known where the run has so many lines below the header.
  pub record HasRun (n : ℕ) : Type 0 where
    pub meant : IsStretchAt ls gone (record { place = f; count = n + 1 })
    pub in_range : f.at + (n + 1) ≤ length d
    pub held : (l : LocatedLine) (k : ℕ) → Some l ≡ slice_get d f.at → k ≡ length (header_targets_located l) → k ≤ 1 → true ≡ is_in_run ts ls gone
        → first_cause (causes_of_site t (OfRuleRun nth g) ts) ≡ Some Already
    pub sited : (l : LocatedLine) (k : ℕ) → Some l ≡ slice_get d f.at → k ≡ length (header_targets_located l) → k ≤ 1 → false ≡ is_in_run ts ls gone
        → IsSited (OfRuleRun nth g) ts d (record { place = f; count = n + 1 })

  pub rule-run : (n : ℕ) → Some n ≡ run_length (lines_from d (f.at + 1)) → HasRun n
  rule-run n e =
      let T = run-there R.spot (lines_from d (f.at + 1)) n R.below_is e in
      let q = T.lines_below in
      let is : gone ≡ under_header R.spot q = ap (λ o. unwrap_or o (this_line R.spot)) T.run_is in
      let at : length gone.above ≡ f.at = ap (λ (z : Stretch). length z.above) is ∙ R.place_is in
      let count : length gone.lines ≡ n + 1 = ap (λ (z : Stretch). length z.lines) is ∙ omega (arith, T.count_is) in
      let meant : IsStretchAt ls gone (record { place = f; count = n + 1 }) = record {
        stretch_is = site-stretch ls (OfRuleRun nth g) gone is-found;
        place_is = at;
        context_is = ap (λ (z : Stretch). context_of z.above) is ∙ R.line.context_is;
        count_is = count;
      } in
      let whole : straddles_at_site ls (OfRuleRun nth g) ≡ None =
      ap (λ o. where_holds (has_no_run o) Straddles) R.found_is ∙ ap (λ o. where_holds (not (is_some o)) Straddles) T.run_is in
      record {
        meant = meant;
        in_range = stretch-in_range d gone (record { place = f; count = n + 1 }) h meant;
        held = λ l k i j m b. left (Some Already) (passed _ _ (Some Already) (one-target l k i j m) (passed _ _ (Some Already) whole (holds _ [] Already (ap (λ b. where_holds b Already) (sym b)))));
        sited = λ l k i j m b. record {
          stretch = gone;
          found_is = is-found;
          meant = meant;
          in_range = stretch-in_range d gone (record { place = f; count = n + 1 }) h meant;
          place_of = stretch-place d gone (record { place = f; count = n + 1 }) meant;
          unrefused = left None (passed _ _ None (one-target l k i j m) (passed _ _ None whole (passed _ [] None (ap (λ b. where_holds b Already) (sym b)) refl)));
        };
      }
