-- A walk down a document sees the lines that an edit of several lines means, and how many lines its address may mean.
use Rattle.std.proofs.Common.{◌≡◌, refl, sym, ap, ◌∙◌, arith, ℕ, zero, suc, ◌+◌, ◌-◌, ◌==◌, ◌&&◌, ◌||◌, List, [], ◌∷◌, map, Bool, true, false, not, if◌then◌else◌, length, Option, Some, None, is_some}
use Rattle.std.specs.Prelude.{nat_lt}
use Rattle.std.proofs.Math.Dec.{eqb-suc-zero}
use Rattle.std.proofs.lemmas.Bool.{eq-eqb, eqb-false, eqb-true, le-ltb, lt-ltb, ltb-false, ltb-true, ne_eqb}
use Rattle.mk_lines.specs.Cells.{joined_byte}
use Rattle.mk_class.specs.Classes.{is_recipe, leaves_flag}
use Rattle.mk_class.specs.Contexts.{Context, start, context_after}
use Rattle.mk_class.specs.ClassTable.{class_of}
use Rattle.mk_class.specs.ClassedLines.{ClassedLine, classed_lines}
use Rattle.mk_class.specs.LocatedClasses.{leaves_flag_located, located_class}
use Rattle.mk_tree.specs.Documents.{IsFaithful}
use Rattle.mk_tree.specs.LocatedLines.{LocatedLine, located_line, located_lines, located_text}
use Rattle.mk_tree.specs.LineTexts.{StandingLine}
use Rattle.mk_tree.proofs.on_documents.LinesInText.{AreClassed, AreClassed-class, AreClassed-tail, AreClassed-lines}
use Rattle.mk_edit_language.specs.AddressCauses.{is_missing}
use Rattle.mk_edit_language.specs.Addresses.{Rule, each_address, assigns, is_rule_for}
use Rattle.mk_edit_language.specs.EachLine.{MarkedLine, assigns_other, marked}
use Rattle.mk_edit_language.specs.Edits.{EachEdit, ChangeEach, SubstValues, SubstRecipe, SubstRecipes}
use Rattle.mk_edit_language.specs.Spots.{nth_of}
use Rattle.mk_edit_language.proofs.on_each_line.MarkLemmas.{marked-by_test}
use Rattle.mk_edit_parts.specs.EachLineWalks.{SeenLine, is_meant_located, is_nth, is_nth_missing, located_marked, no_reach, reach_after, reach_along, reach_by, reach_of, seen_from, seen_lines, stays_located}
use Rattle.mk_edit_parts.specs.Seeking.{IsNumbered, candidates_of, may_mean, wanted}
use Rattle.mk_edit_parts.specs.SeekWalks.{noted, nothing_seen, seek}
use Rattle.mk_edit_parts.specs.declared.each_line.Reach.{Reach}
use Rattle.mk_edit_parts.specs.declared.seek.Sought.{Sought}
use Rattle.mk_edit_parts.proofs.on_each_line.MeantMarks.{in_after, is_first, less, mark, marks-walked, meant_after, walked}
use Rattle.mk_edit_parts.proofs.on_finding.LeanLemmas.{asked}
use Rattle.mk_edit_parts.proofs.on_finding.PartLemmas.{assigns-located, assigns_other-located, rule_for-located}
use Rattle.mk_edit_parts.proofs.on_finding.SeekLemmas.{lines-sought}

-- a line as a walk sees it
abbrev seen : LocatedLine → Bool → SeenLine
seen l b = record { line = l; is_meant = b }

-- ---- the lines that pass a test

-- a walk whose test of a line asks for nothing above it sees the lines that pass it
seen-tested : (e : EachEdit) (test : ClassedLine → Bool) → ((r : Reach) (c : Context) (l : ClassedLine) → class_of c l.bytes ≡ l.class → is_meant_located e r (located_line l) ≡ test l)
    → (r : Reach) (c : Context) (ls : List ClassedLine) → AreClassed c ls → seen_from e r (located_lines ls) ≡ map located_marked (map (λ l. mark l (test l)) ls)
seen-tested e test f r c [] h = refl
seen-tested e test f r c (l ∷ ls) h =
    let next = reach_after e (located_line l) r in
    ap (λ b. seen (located_line l) b ∷ seen_from e next (located_lines ls)) (f r c l (AreClassed-class c l ls h))
    ∙ ap (λ (ss : List SeenLine). seen (located_line l) (test l) ∷ ss) (seen-tested e test f next (context_after c l.class) ls (AreClassed-tail c l ls h))

-- ---- the recipe lines of the rules for a target

-- the number of the rule that is meant among those that come, after so many
abbrev number_left : Option ℕ → (count : ℕ) → Option ℕ
number_left None k = None
number_left (Some n) k = Some (n - k)

left-less : (nth : Option ℕ) (k : ℕ) → less (number_left nth k) ≡ number_left nth (k + 1)
left-less None k = refl
left-less (Some n) k = let e : n - k - 1 ≡ n - (k + 1) = omega arith in ap (λ (m : ℕ). Some m) e

left-first : (nth : Option ℕ) (k : ℕ) → is_first (number_left nth k) ≡ is_nth nth (k + 1)
left-first None k = refl
left-first (Some n) k = go (n - k == 1) refl
  where
    go : (b : Bool) → (n - k == 1) ≡ b → b ≡ (k + 1 == n)
    go true h = sym (eq-eqb (k + 1) n (omega (arith, eqb-true (n - k) 1 h)))
    go false h = sym (ne_eqb (k + 1) n (λ e. eqb-false (n - k) 1 h (omega (arith, e))))

module _ (nth : Option ℕ) (g f t : List ℕ) where
  abbrev edit : EachEdit
  edit = SubstRecipe nth g f t

  -- what a walk knows after a line, by the line's class
  reach-told : (c : Context) (l : ClassedLine) → class_of c l.bytes ≡ l.class → (r : Reach) → reach_after edit (located_line l) r ≡ reach_by (Some (Rule nth g)) (is_rule_for g l.class) (is_recipe l.class || leaves_flag l.class) r
  reach-told c l h r =
      let a = Some (Rule nth g) in
      let A = asked l.class in
      ap (λ b. reach_by a b (stays_located (located_class joined_byte l.class)) r) (rule_for-located g c l h)
      ∙ (ap (λ b. reach_by a (is_rule_for g l.class) (b || leaves_flag_located (located_class joined_byte l.class)) r) A.recipe_is
      ∙ ap (λ b. reach_by a (is_rule_for g l.class) (is_recipe l.class || b) r) A.leaves_is)

  seen-recipes : (r : Reach) (c : Context) (ls : List ClassedLine) → AreClassed c ls → seen_from edit r (located_lines ls) ≡ map located_marked (walked g (number_left nth r.count) r.is_in_rule ls)
  seen-recipes r c [] h = refl
  seen-recipes r c (l ∷ ls) h =
      let k = AreClassed-class c l ls h in
      let q = is_rule_for g l.class in
      let s = is_recipe l.class || leaves_flag l.class in
      let next = reach_by (Some (Rule nth g)) q s r in
      let o = number_left nth r.count in
      ap (λ b. seen (located_line l) (r.is_in_rule && b) ∷ seen_from edit (reach_after edit (located_line l) r) (located_lines ls)) (asked l.class).recipe_is
      ∙ (ap (λ (z : Reach). seen (located_line l) (r.is_in_rule && is_recipe l.class) ∷ seen_from edit z (located_lines ls)) (reach-told c l k r)
      ∙ ap (λ (ss : List SeenLine). seen (located_line l) (r.is_in_rule && is_recipe l.class) ∷ ss)
      (seen-recipes next (context_after c l.class) ls (AreClassed-tail c l ls h) ∙ ap (λ (ms : List MarkedLine). map located_marked ms) (go q s)))
    where
      go : (q s : Bool)
          → walked g (number_left nth (reach_by (Some (Rule nth g)) q s r).count) (reach_by (Some (Rule nth g)) q s r).is_in_rule ls
          ≡ walked g (meant_after q (number_left nth r.count)) (in_after q (number_left nth r.count) r.is_in_rule s) ls
      go true s = ap (λ o. walked g o (is_nth nth (r.count + 1)) ls) (sym (left-less nth r.count)) ∙ ap (λ b. walked g (less (number_left nth r.count)) b ls) (sym (left-first nth r.count))
      go false s = refl

-- what is meant by such an edit
recipes-marked : (nth : Option ℕ) (g f t : List ℕ) (ls : List ClassedLine) → marked (SubstRecipe nth g f t) ls ≡ walked g (number_left nth 0) false ls
recipes-marked None g f t ls = marks-walked g None false ls
recipes-marked (Some n) g f t ls = let e : n ≡ n - 0 = omega arith in marks-walked g (Some n) false ls ∙ ap (λ m. walked g (Some m) false ls) e

-- ---- the lines of a faithful document

seen-marked : (e : EachEdit) (ls : List ClassedLine) → AreClassed start ls → seen_lines e (located_lines ls) ≡ map located_marked (marked e ls)
seen-marked (ChangeEach n c) ls h =
    seen-tested (ChangeEach n c) (λ l. assigns n l.class) (λ r x l k. assigns-located n x l k) no_reach start ls h ∙ ap (map located_marked) (sym (marked-by_test (λ l. assigns n l.class) ls))
seen-marked (SubstValues f t) ls h =
    seen-tested (SubstValues f t) (λ l. assigns_other l.class) (λ r x l k. assigns_other-located x l k) no_reach start ls h ∙ ap (map located_marked) (sym (marked-by_test (λ l. assigns_other l.class) ls))
seen-marked (SubstRecipe nth g f t) ls h =
    seen-recipes nth g f t no_reach start ls h ∙ ap (map located_marked) (sym (recipes-marked nth g f t ls))
seen-marked (SubstRecipes f t) ls h =
    seen-tested (SubstRecipes f t) (λ l. is_recipe l.class) (λ r x l k. (asked l.class).recipe_is) no_reach start ls h ∙ ap (map located_marked) (sym (marked-by_test (λ l. is_recipe l.class) ls))

-- the lines that a walk sees, with those that are meant
pub lines-seen : (e : EachEdit) (ls : List LocatedLine) → IsFaithful ls → seen_lines e ls ≡ map located_marked (marked e (classed_lines (located_text ls)))
lines-seen e ls h =
    let ds = classed_lines (located_text ls) in
    ap (seen_lines e) h ∙ seen-marked e ds (AreClassed-lines (located_text ls) ds refl)

-- ---- how many lines the address may mean

reach-counted : (e : EachEdit) (w : ℕ) (r : Reach) (s : Sought) (ls : List LocatedLine) → r.count ≡ s.count → (reach_along e r ls).count ≡ (seek (may_mean (each_address e)) w s ls).count
reach-counted e w r s [] h = h
reach-counted e w r s (l ∷ ls) h =
    let a = each_address e in
    reach-counted e w (reach_after e l r) (noted (may_mean a) w l s) ls (go (may_mean a l) (stays_located l.class))
  where
    go : (b k : Bool) → (reach_by (each_address e) b k r).count ≡ (if b then s.count + 1 else s.count)
    go true k = ap (λ n. n + 1) h
    go false k = h

-- each of these addresses means lines by their numbers
each-numbered : (e : EachEdit) → IsNumbered (each_address e)
each-numbered (ChangeEach n c) = tt
each-numbered (SubstValues f t) = tt
each-numbered (SubstRecipe nth g f t) = tt
each-numbered (SubstRecipes f t) = tt

pub count-reached : (e : EachEdit) (ls : List LocatedLine) → IsFaithful ls → (reach_of e ls).count ≡ length (candidates_of (classed_lines (located_text ls)) (each_address e))
count-reached e ls h =
    let a = each_address e in
    reach-counted e (wanted a) no_reach nothing_seen ls refl ∙ (lines-sought ls a (each-numbered e) h).count_is

-- ---- NoSuch

lt-suc : (a b : ℕ) → nat_lt (suc a) (suc b) ≡ nat_lt a b
lt-suc a b = go (nat_lt a b) refl
  where
    go : (c : Bool) → nat_lt a b ≡ c → nat_lt (suc a) (suc b) ≡ c
    go true h = lt-ltb (suc a) (suc b) (omega (arith, ltb-true a b h))
    go false h = le-ltb (suc a) (suc b) (omega (arith, ltb-false a b h))

nth-missing : (n : ℕ) (ss : List StandingLine) → nat_lt (length ss) (suc n) ≡ not (is_some (nth_of (suc n) ss))
nth-missing n [] = lt-ltb 0 (suc n) (omega arith)
nth-missing zero (s ∷ ss) = le-ltb (length (s ∷ ss)) 1 (omega arith)
nth-missing (suc n) (s ∷ ss) = lt-suc (length ss) (suc n) ∙ nth-missing n ss

pub missing-told : (nth : Option ℕ) (ss : List StandingLine) → is_nth_missing nth (length ss) ≡ is_missing nth ss
missing-told None [] = refl
missing-told None (s ∷ ss) = eqb-suc-zero (length ss)
missing-told (Some zero) [] = refl
missing-told (Some zero) (s ∷ ss) = refl
missing-told (Some (suc n)) ss = ap (λ b. b || nat_lt (length ss) (suc n)) (eqb-suc-zero n) ∙ nth-missing n ss
