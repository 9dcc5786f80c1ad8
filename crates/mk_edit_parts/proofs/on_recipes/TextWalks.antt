-- A walk down from the header of a rule finds the recipe lines that have a text.
use Rattle.std.proofs.Common.{◌≡◌, refl, sym, ap, ◌∙◌, arith, ℕ, ◌+◌, ◌≤◌, List, [], ◌∷◌, map, Bool, true, false, if◌then◌else◌, filter, length, drop, Option, Some, None, option_map}
use Rattle.std.specs.Prelude.{slice_get}
use Rattle.std.specs.Str.{bytes_eq}
use Rattle.std.proofs.lemmas.List.{take-map}
use Rattle.mk_lines.specs.PhysicalLines.{without_line_end}
use Rattle.mk_class.specs.Classes.{is_recipe, leaves_flag}
use Rattle.mk_class.specs.LocatedClasses.{leaves_flag_located}
use Rattle.mk_class.specs.ClassedLines.{ClassedLine}
use Rattle.mk_tree.specs.Documents.{IsFaithful}
use Rattle.mk_tree.specs.LocatedLines.{LocatedLine, located_lines}
use Rattle.mk_tree.specs.RecipeLines.{recipe_lines}
use Rattle.mk_tree.specs.LineTexts.{StandingLine}
use Rattle.mk_edit_language.specs.Spots.{spots, under, nth_of}
use Rattle.mk_edit_language.specs.Stretches.{has_text}
use Rattle.mk_edit_parts.specs.RecipeWalks.{lines_from, recipe_spots_in, is_recipe_located}
use Rattle.mk_edit_parts.specs.TextMatches.{with_match}
use Rattle.mk_edit_parts.specs.declared.recipe_text.Matches.{Matches}
use Rattle.mk_edit_parts.proofs.on_finding.LeanLemmas.{asked, drop_at}
use Rattle.mk_edit_parts.proofs.on_recipes.WalkLemmas.{faithful-from, past-end}

-- whether a line of these bytes has the text
abbrev pub text_is : (text bytes : List ℕ) → Bool
text_is o b = bytes_eq (drop 1 (without_line_end b)) o

-- nothing is found
abbrev pub no_match : Matches
no_match = record { first = None; count = 0 }

-- what a walk has found after some more lines; the first of these stands at this index
abbrev pub matches_from : Matches → (text : List ℕ) → (at : ℕ) → List LocatedLine → Matches
matches_from m o at [] = m
matches_from m o at (l ∷ ls) =
    if is_recipe_located l.class
    then matches_from (if text_is o l.bytes then with_match m at else m) o (at + 1) ls
    else if leaves_flag_located l.class then matches_from m o (at + 1) ls
    else m

-- ---- the recipe lines of a header, line by line

abbrev pub first_spot : ClassedLine → List ClassedLine → StandingLine
first_spot l ls = record { above = []; line = l; below = ls }

pub spots-recipe : (l : ClassedLine) (ls : List ClassedLine) → is_recipe l.class ≡ true → recipe_spots_in (l ∷ ls) ≡ first_spot l ls ∷ map (under l) (recipe_spots_in ls)
spots-recipe l ls h = rw (h, h) (ap (λ z. first_spot l ls ∷ z) (take-map (under l) (length (recipe_lines ls)) (spots (λ z. is_recipe z.class) ls)))

pub spots-other : (l : ClassedLine) (ls : List ClassedLine) → is_recipe l.class ≡ false → leaves_flag l.class ≡ true → recipe_spots_in (l ∷ ls) ≡ map (under l) (recipe_spots_in ls)
spots-other l ls h k = rw (h, k, h) (take-map (under l) (length (recipe_lines ls)) (spots (λ z. is_recipe z.class) ls))

pub spots-ended : (l : ClassedLine) (ls : List ClassedLine) → is_recipe l.class ≡ false → leaves_flag l.class ≡ false → recipe_spots_in (l ∷ ls) ≡ []
spots-ended l ls h k = rw (h, k) refl

-- a change of spots that leaves their lines leaves which of them have the text
pub filter-text : (f : StandingLine → StandingLine) (o : List ℕ) → ((s : StandingLine) → has_text o (f s) ≡ has_text o s) → (ss : List StandingLine) → filter (has_text o) (map f ss) ≡ map f (filter (has_text o) ss)
filter-text f o same [] = refl
filter-text f o same (s ∷ ss) =
    ap (λ b. if b then f s ∷ filter (has_text o) (map f ss) else filter (has_text o) (map f ss)) (same s) ∙ go (has_text o s) (filter-text f o same ss)
  where
    go : (b : Bool) → filter (has_text o) (map f ss) ≡ map f (filter (has_text o) ss)
        → (if b then f s ∷ filter (has_text o) (map f ss) else filter (has_text o) (map f ss)) ≡ map f (if b then s ∷ filter (has_text o) ss else filter (has_text o) ss)
    go true e = ap (λ z. f s ∷ z) e
    go false e = e

-- ---- what the walk finds

-- what is found of some spots
abbrev told : Matches → ℕ → List StandingLine → Matches
told m at [] = m
told m at (s ∷ ss) = told (with_match m (at + length s.above)) at ss

told-under : (m : Matches) (at : ℕ) (l : ClassedLine) (ss : List StandingLine) → told m (at + 1) ss ≡ told m at (map (under l) ss)
told-under m at l [] = refl
told-under m at l (s ∷ ss) =
    let e : at + 1 + length s.above ≡ at + length (l ∷ s.above) = omega arith in
    ap (λ n. told (with_match m n) (at + 1) ss) e ∙ told-under (with_match m (at + length (l ∷ s.above))) at l ss

matches-told : (m : Matches) (o : List ℕ) (at : ℕ) (ls : List ClassedLine) → matches_from m o at (located_lines ls) ≡ told m at (filter (has_text o) (recipe_spots_in ls))
matches-told m o at [] = refl
matches-told m o at (l ∷ ls) =
    let A = asked l.class in
    rw (A.recipe_is, A.leaves_is) (go (is_recipe l.class) (leaves_flag l.class) refl refl (λ n. matches-told n o (at + 1) ls))
  where
    under-all : filter (has_text o) (map (under l) (recipe_spots_in ls)) ≡ map (under l) (filter (has_text o) (recipe_spots_in ls))
    under-all = filter-text (under l) o (λ s. refl) (recipe_spots_in ls)

    here : (b : Bool) → told (if b then with_match m at else m) (at + 1) (filter (has_text o) (recipe_spots_in ls)) ≡ told m at (if b then first_spot l ls ∷ map (under l) (filter (has_text o) (recipe_spots_in ls)) else map (under l) (filter (has_text o) (recipe_spots_in ls)))
    here true =
        let e : at ≡ at + 0 = omega arith in
        told-under (with_match m at) at l (filter (has_text o) (recipe_spots_in ls)) ∙ ap (λ n. told (with_match m n) at (map (under l) (filter (has_text o) (recipe_spots_in ls)))) e
    here false = told-under m at l (filter (has_text o) (recipe_spots_in ls))

    go : (b s : Bool) → is_recipe l.class ≡ b → leaves_flag l.class ≡ s → ((n : Matches) → matches_from n o (at + 1) (located_lines ls) ≡ told n (at + 1) (filter (has_text o) (recipe_spots_in ls)))
        → (if b then matches_from (if text_is o l.bytes then with_match m at else m) o (at + 1) (located_lines ls) else if s then matches_from m o (at + 1) (located_lines ls) else m)
        ≡ told m at (filter (has_text o) (recipe_spots_in (l ∷ ls)))
    go true s h k ih =
        ih (if text_is o l.bytes then with_match m at else m)
        ∙ (here (text_is o l.bytes)
        ∙ (ap (λ z. told m at (if text_is o l.bytes then first_spot l ls ∷ z else z)) (sym under-all)
        ∙ ap (λ z. told m at (filter (has_text o) z)) (sym (spots-recipe l ls h))))
    go false true h k ih =
        ih m ∙ (told-under m at l (filter (has_text o) (recipe_spots_in ls)) ∙ (ap (told m at) (sym under-all) ∙ ap (λ z. told m at (filter (has_text o) z)) (sym (spots-other l ls h k))))
    go false false h k ih = ap (λ z. told m at (filter (has_text o) z)) (sym (spots-ended l ls h k))

told-kept : (m : Matches) (at i : ℕ) (ss : List StandingLine) → m.first ≡ Some i → (told m at ss).first ≡ Some i
told-kept m at i [] h = h
told-kept m at i (s ∷ ss) h = told-kept (with_match m (at + length s.above)) at i ss (go m.first h)
  where
    go : (f : Option ℕ) → f ≡ Some i → (with_match (record { first = f; count = m.count }) (at + length s.above)).first ≡ Some i
    go None e = absurd (cc)
    go (Some j) e = e

told-count : (m : Matches) (at : ℕ) (ss : List StandingLine) → (told m at ss).count ≡ m.count + length ss
told-count m at [] = omega arith
told-count m at (s ∷ ss) = omega (arith, told-count (with_match m (at + length s.above)) at ss)

told-first : (at : ℕ) (ss : List StandingLine) → (told no_match at ss).first ≡ option_map (λ s. at + length s.above) (nth_of 1 ss)
told-first at [] = refl
told-first at (s ∷ ss) = told-kept (with_match no_match (at + length s.above)) at (at + length s.above) ss refl

-- the recipe lines of a document that have the text
pub record AreMatches (m : Matches) (at : ℕ) (ss : List StandingLine) : Type 0 where
  pub first : m.first ≡ option_map (λ s. at + length s.above) (nth_of 1 ss)
  pub count : m.count ≡ length ss

pub matches-found : (ls : List LocatedLine) (at : ℕ) (o : List ℕ) (m : Matches) → IsFaithful ls → m ≡ matches_from no_match o at (drop at ls) → AreMatches m at (filter (has_text o) (recipe_spots_in (lines_from ls at)))
matches-found ls at o m f h =
    let ss = filter (has_text o) (recipe_spots_in (lines_from ls at)) in
    let e : m ≡ told no_match at ss = h ∙ (ap (matches_from no_match o at) (faithful-from ls at f) ∙ matches-told no_match o at (lines_from ls at)) in
    record { first = ap (λ (z : Matches). z.first) e ∙ told-first at ss; count = ap (λ (z : Matches). z.count) e ∙ (told-count no_match at ss ∙ omega arith) }

-- ---- a step of the walk

pub match-past : (m : Matches) (o : List ℕ) (ls : List LocatedLine) (at : ℕ) → length ls ≤ at → matches_from m o at (drop at ls) ≡ m
match-past m o ls at h = ap (matches_from m o at) (past-end ls at h)

pub match-recipe : (m n : Matches) (o : List ℕ) (ls : List LocatedLine) (at : ℕ) (l : LocatedLine) (b : Bool) → Some l ≡ slice_get ls at → is_recipe_located l.class ≡ true → text_is o l.bytes ≡ b
    → n ≡ (if b then with_match m at else m) → matches_from m o at (drop at ls) ≡ matches_from n o (at + 1) (drop (at + 1) ls)
match-recipe m n o ls at l b h a t e = rw (drop_at ls at l h, a, t, e) refl

pub match-other : (m n : Matches) (o : List ℕ) (ls : List LocatedLine) (at : ℕ) (l : LocatedLine) → Some l ≡ slice_get ls at → is_recipe_located l.class ≡ false → leaves_flag_located l.class ≡ true
    → n ≡ m → matches_from m o at (drop at ls) ≡ matches_from n o (at + 1) (drop (at + 1) ls)
match-other m n o ls at l h a b e = rw (drop_at ls at l h, a, b, e) refl

pub match-ended : (m : Matches) (o : List ℕ) (ls : List LocatedLine) (at : ℕ) (l : LocatedLine) → Some l ≡ slice_get ls at → is_recipe_located l.class ≡ false → leaves_flag_located l.class ≡ false
    → matches_from m o at (drop at ls) ≡ m
match-ended m o ls at l h a b = rw (drop_at ls at l h, a, b) refl
