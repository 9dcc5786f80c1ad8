-- Lines that are marked because they pass a test.
use Rattle.std.proofs.Common.{◌≡◌, refl, ap, ◌∙◌, arith, ℕ, suc, ◌+◌, List, [], ◌∷◌, map, length, Bool, true, false, ◌||◌}
use Rattle.std.proofs.Math.Dec.{eqb-suc-zero, eqb-zero-suc, eqb-suc-suc}
use Rattle.std.specs.Prelude.{◌==◌}
use Rattle.mk_class.specs.ClassedLines.{ClassedLine}
use Rattle.mk_tree.specs.LineTexts.{StandingLine}
use Rattle.mk_edit_language.specs.Spots.{spots, spot_if, under}
use Rattle.mk_edit_language.specs.EachLine.{MarkedLine, stands_below, marked_by}

there-under-zero : (l : ClassedLine) (ss : List StandingLine) → stands_below 0 (map (under l) ss) ≡ false
there-under-zero l [] = refl
there-under-zero l (s ∷ ss) = ap (λ b. b || stands_below 0 (map (under l) ss)) (eqb-suc-zero (length s.above)) ∙ there-under-zero l ss

there-under : (l : ClassedLine) (n : ℕ) (ss : List StandingLine) → stands_below (suc n) (map (under l) ss) ≡ stands_below n ss
there-under l n [] = refl
there-under l n (s ∷ ss) =
    ap (λ b. b || stands_below (suc n) (map (under l) ss)) (eqb-suc-suc (length s.above) n) ∙ ap (λ b. (length s.above == n) || b) (there-under l n ss)

module _ (test : ClassedLine → Bool) where
  there-first : (l : ClassedLine) (ls : List ClassedLine) → stands_below 0 (spots test (l ∷ ls)) ≡ test l
  there-first l ls = go (test l)
    where
      go : (b : Bool) → stands_below 0 (spot_if b (record { above = []; line = l; below = ls }) (map (under l) (spots test ls))) ≡ b
      go true = refl
      go false = there-under-zero l (spots test ls)

  there-later : (n : ℕ) (l : ClassedLine) (ls : List ClassedLine) → stands_below (suc n) (spots test (l ∷ ls)) ≡ stands_below n (spots test ls)
  there-later n l ls = go (test l)
    where
      go : (b : Bool) → stands_below (suc n) (spot_if b (record { above = []; line = l; below = ls }) (map (under l) (spots test ls))) ≡ stands_below n (spots test ls)
      go true = ap (λ b. b || stands_below (suc n) (map (under l) (spots test ls))) (eqb-zero-suc n) ∙ there-under l n (spots test ls)
      go false = there-under l n (spots test ls)

  marked-later : (n : ℕ) (l : ClassedLine) (ls ks : List ClassedLine) → marked_by (spots test (l ∷ ls)) (n + 1) ks ≡ marked_by (spots test ls) n ks
  marked-later n l ls [] = refl
  marked-later n l ls (k ∷ ks) =
      let e : n + 1 ≡ suc n = omega arith in
      ap (λ b. record { line = k; is_meant = b } ∷ marked_by (spots test (l ∷ ls)) ((n + 1) + 1) ks) (ap (λ i. stands_below i (spots test (l ∷ ls))) e ∙ there-later n l ls)
      ∙ ap (λ (ms : List MarkedLine). record { line = k; is_meant = stands_below n (spots test ls) } ∷ ms) (marked-later (n + 1) l ls ks)

  -- lines marked by those that pass a test are marked where they pass it
  pub marked-by_test : (ls : List ClassedLine) → marked_by (spots test ls) 0 ls ≡ map (λ l. record { line = l; is_meant = test l }) ls
  marked-by_test [] = refl
  marked-by_test (l ∷ ls) =
      ap (λ b. record { line = l; is_meant = b } ∷ marked_by (spots test (l ∷ ls)) (0 + 1) ls) (there-first l ls)
      ∙ ap (λ (ms : List MarkedLine). record { line = l; is_meant = test l } ∷ ms) (marked-later 0 l ls ls ∙ marked-by_test ls)
