-- The lines that references show.
use Rattle.std.proofs.Common.{◌≡◌, ℕ, zero, suc, ◌+◌, ◌-◌, ◌<◌, ◌≤◌, List, [], ◌∷◌, ◌++◌, length, get_or, take, drop, refl, sym, ap, ap₂, ◌∙◌, arith, Bor}
use Rattle.std.proofs.lemmas.List.{length-drop, length-map, take-map, take_more, take_rest}
use Rattle.mk_diff.specs.Stretches.{IsMatch, shown, between, line_at}
use Rattle.mk_diff.specs.declared.matching.Match.{Match}

pub length-shown : (ls : List (Bor (List ℕ))) → length (shown ls) ≡ length ls
length-shown ls = length-map ls (λ (l : Bor (List ℕ)). l.now)

shown-drop : (n : ℕ) (ls : List (Bor (List ℕ))) → shown (drop n ls) ≡ drop n (shown ls)
shown-drop zero ls = refl
shown-drop (suc n) [] = refl
shown-drop (suc n) (l ∷ ls) = shown-drop n ls

pub shown-between : (i j : ℕ) (ls : List (Bor (List ℕ))) → shown (take (j - i) (drop i ls)) ≡ between i j (shown ls)
shown-between i j ls = sym (take-map (λ (l : Bor (List ℕ)). l.now) (j - i) (drop i ls)) ∙ ap (take (j - i)) (shown-drop i ls)

-- the line at an index
pub line_at-shown : (ls : List (Bor (List ℕ))) (i : ℕ) (d : Bor (List ℕ)) → i < length ls → line_at i (shown ls) ≡ (get_or ls i d).now
line_at-shown [] i d below = absurd (omega arith)
line_at-shown (l ∷ ls) zero d below = refl
line_at-shown (l ∷ ls) (suc i) d below = line_at-shown ls i d (omega arith)

-- one more line at the front of two texts
pub front-more : (i : ℕ) (old new : List (List ℕ)) → i < length old → i < length new → take i old ≡ take i new → line_at i old ≡ line_at i new
    → take (i + 1) old ≡ take (i + 1) new
front-more i old new old_in new_in front same =
    take_more old i [] old_in ∙ ap₂ (λ ls l. ls ++ l ∷ []) front same ∙ sym (take_more new i [] new_in)

-- the lines from an index on
pub shown-rest : (i : ℕ) (ls : List (Bor (List ℕ))) → shown (take (length ls - i) (drop i ls)) ≡ drop i (shown ls)
shown-rest i ls = ap shown (take_rest ls i) ∙ shown-drop i ls

pub within-rest : (n i : ℕ) (ls : List (Bor (List ℕ))) → n ≤ length (take (length ls - i) (drop i ls)) → n ≤ length (drop i (shown ls))
within-rest n i ls within = omega (arith, within, ap length (shown-rest i ls), length-shown (take (length ls - i) (drop i ls)))

-- a match that was found in what is left of two texts ends within both
pub found-within : (i j : ℕ) (found : Match) (old new : List (Bor (List ℕ))) → i ≤ length old → j ≤ length new
    → IsMatch found (shown (take (length old - i) (drop i old))) (drop j (shown new)) → (i + found.removed ≤ length old) × (j + found.added ≤ length new)
found-within i j found old new old_in new_in is =
    let rest = rw shown-rest at is in (
      omega (arith, rest.old_within, length-drop i (shown old), length-shown old),
      omega (arith, rest.new_within, length-drop j (shown new), length-shown new),
    )
