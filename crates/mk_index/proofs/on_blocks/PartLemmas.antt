-- Lines of which the first and the last are mentioned.
use Rattle.std.proofs.Common.{◌≡◌, refl, sym, ap, ◌∙◌, subst, arith, ℕ, zero, suc, ◌+◌, ◌-◌, ◌≤◌, ◌<◌, List, [], ◌∷◌, ◌++◌, length, length-append, take, drop}
use Rattle.std.proofs.lemmas.List.{drop_all, take-append-le, length-take-le, length-drop}
use Rattle.std.proofs.Math.Seq.{drop-append-add}
use Rattle.mk_tree.specs.LocatedLines.{LocatedLine}
use Rattle.mk_index.specs.Blocks.{AreLinesMentioned}
use Rattle.mk_index.specs.Chains.{AreMentioned, Mention}
use Rattle.mk_index.specs.Keys.{hashes_of}
use Rattle.mk_index.proofs.on_blocks.ChangedLines.{with_lines}
use Rattle.mk_index.specs.declared.keys.Scope.{Scope}

-- if these are all lines, all are mentioned
pub whole-mentioned : (s : Scope) (ms : List Mention) (n : ℕ) (ls : List LocatedLine) (front back : ℕ) → AreLinesMentioned s ms n (take front ls) → AreLinesMentioned s ms n (drop (length ls - back) ls) → length ls ≤ front + back → AreLinesMentioned s ms n ls
whole-mentioned s ms n [] front back f b all = tt
whole-mentioned s ms n (l ∷ ls) zero back f b all =
    let none : suc (length ls) - back ≡ 0 = omega (arith, all) in
    subst (λ (k : ℕ). AreLinesMentioned s ms n (drop k (l ∷ ls))) none b
whole-mentioned s ms n (l ∷ ls) (suc front) back f b all = (f.0, whole-mentioned s ms n ls front back f.1 (below (suc (length ls) - back) refl b) (omega (arith, all)))
  where
    below : (k : ℕ) → suc (length ls) - back ≡ k → AreLinesMentioned s ms n (drop k (l ∷ ls)) → AreLinesMentioned s ms n (drop (length ls - back) ls)
    below zero e h =
        let none : length ls - back ≡ 0 = omega (arith, e) in
        subst (λ (j : ℕ). AreLinesMentioned s ms n (drop j ls)) (sym none) h.1
    below (suc k) e h =
        let same : k ≡ length ls - back = omega (arith, e) in
        subst (λ (j : ℕ). AreLinesMentioned s ms n (drop j ls)) same h

-- some of the first lines of those that are mentioned
pub fewer-front : (s : Scope) (ms : List Mention) (n : ℕ) (ls : List LocatedLine) (front fewer : ℕ) → fewer ≤ front → AreLinesMentioned s ms n (take front ls) → AreLinesMentioned s ms n (take fewer ls)
fewer-front s ms n ls front zero few h = tt
fewer-front s ms n [] front (suc fewer) few h = tt
fewer-front s ms n (l ∷ ls) zero (suc fewer) few h = absurd (omega (arith, few))
fewer-front s ms n (l ∷ ls) (suc front) (suc fewer) few h = (h.0, fewer-front s ms n ls front fewer (omega (arith, few)) h.1)

-- lines further s down are mentioned if those above them are
pub further : (s : Scope) (ms : List Mention) (n : ℕ) (ls : List LocatedLine) (at more : ℕ) → at ≤ more → AreLinesMentioned s ms n (drop at ls) → AreLinesMentioned s ms n (drop more ls)
further s ms n [] at zero few h = tt
further s ms n [] at (suc more) few h = tt
further s ms n (l ∷ ls) zero zero few h = h
further s ms n (l ∷ ls) zero (suc more) few h = further s ms n ls zero more (omega arith) h.1
further s ms n (l ∷ ls) (suc at) zero few h = absurd (omega (arith, few))
further s ms n (l ∷ ls) (suc at) (suc more) few h = further s ms n ls at more (omega (arith, few)) h

pub drop-drop : {X : Type 0} (ls : List X) (j k : ℕ) → drop j (drop k ls) ≡ drop (k + j) ls
drop-drop ls j zero = let e : j ≡ 0 + j = omega arith in ap (λ (m : ℕ). drop m ls) e
drop-drop [] j (suc k) = drop_all j [] (omega arith)
    ∙ sym (drop_all (suc k + j) [] (omega arith))
drop-drop (l ∷ ls) j (suc k) =
    let e : suc (k + j) ≡ suc k + j = omega arith in
    drop-drop ls j k ∙ ap (λ (m : ℕ). drop m (l ∷ ls)) e

-- the first lines after a change below them
pub front-kept : (s : Scope) (ms : List Mention) (n : ℕ) (ins inside : List LocatedLine) (at takes front fewer : ℕ) → fewer ≤ front → fewer ≤ at → at ≤ length inside → AreLinesMentioned s ms n (take front inside) → AreLinesMentioned s ms n (take fewer (with_lines at takes ins inside))
front-kept s ms n ins inside at takes front fewer few above within h =
    let m = length-take-le at inside within in
    let l : take fewer (with_lines at takes ins inside) ≡ take fewer (take at inside) = take-append-le fewer (take at inside) (ins ++ drop (at + takes) inside) (omega (arith, above, m)) in
    subst (AreLinesMentioned s ms n) (sym (l ∙ take-take inside fewer at above)) (fewer-front s ms n inside front fewer few h)
  where
    take-take : (ls : List LocatedLine) (i j : ℕ) → i ≤ j → take i (take j ls) ≡ take i ls
    take-take ls zero j e = refl
    take-take [] (suc i) zero e = refl
    take-take [] (suc i) (suc j) e = refl
    take-take (l ∷ ls) (suc i) zero e = absurd (omega (arith, e))
    take-take (l ∷ ls) (suc i) (suc j) e = ap (λ (xs : List LocatedLine). l ∷ xs) (take-take ls i j (omega (arith, e)))

-- the last lines after a change above them
pub back-kept : (s : Scope) (ms : List Mention) (n : ℕ) (ins inside : List LocatedLine) (at takes back fewer : ℕ) → fewer ≤ back → fewer ≤ length inside - at - takes → at + takes ≤ length inside → AreLinesMentioned s ms n (drop (length inside - back) inside)
    → AreLinesMentioned s ms n (drop (length (with_lines at takes ins inside) - fewer) (with_lines at takes ins inside))
back-kept s ms n ins inside at takes back fewer few below within h =
    let rest = drop (at + takes) inside in
    let r = length-drop (at + takes) inside in
    let p = length-append (take at inside) (ins ++ rest) in
    let q = length-append ins rest in
    let t = length-take-le at inside (omega (arith, within)) in
    let up : length (with_lines at takes ins inside) - fewer ≡ length (take at inside) + (length ins + (length rest - fewer)) = omega (arith, p, q, r, below) in
    let one = drop-append-add (take at inside) (ins ++ rest) (length ins + (length rest - fewer)) in
    let two = drop-append-add ins rest (length rest - fewer) in
    let three = drop-drop inside (length rest - fewer) (at + takes) in
    let four : at + takes + (length rest - fewer) ≡ length inside - fewer = omega (arith, r, below, within) in
    let same : drop (length (with_lines at takes ins inside) - fewer) (with_lines at takes ins inside) ≡ drop (length inside - fewer) inside
    = ap (λ (m : ℕ). drop m (with_lines at takes ins inside)) up ∙ (one ∙ (two ∙ (three ∙ ap (λ (m : ℕ). drop m inside) four))) in
    subst (AreLinesMentioned s ms n) (sym same) (further s ms n inside (length inside - back) (length inside - fewer) (omega (arith, few)) h)

-- ---- one line of those that are mentioned

front-one : (s : Scope) (ms : List Mention) (n : ℕ) (done : List LocatedLine) (l : LocatedLine) (rest : List LocatedLine) (front : ℕ) → length done < front → AreLinesMentioned s ms n (take front (done ++ l ∷ rest)) → AreMentioned ms n (hashes_of s l)
front-one s ms n [] l rest zero few h = absurd (omega (arith, few))
front-one s ms n [] l rest (suc front) few h = h.0
front-one s ms n (x ∷ done) l rest zero few h = absurd (omega (arith, few))
front-one s ms n (x ∷ done) l rest (suc front) few h = front-one s ms n done l rest front (omega (arith, few)) h.1

back-one : (s : Scope) (ms : List Mention) (n : ℕ) (done : List LocatedLine) (l : LocatedLine) (rest : List LocatedLine) (from : ℕ) → from ≤ length done → AreLinesMentioned s ms n (drop from (done ++ l ∷ rest)) → AreMentioned ms n (hashes_of s l)
back-one s ms n [] l rest zero few h = h.0
back-one s ms n [] l rest (suc from) few h = absurd (omega (arith, few))
back-one s ms n (x ∷ done) l rest zero few h = back-one s ms n done l rest zero (omega arith) h.1
back-one s ms n (x ∷ done) l rest (suc from) few h = back-one s ms n done l rest from (omega (arith, few)) h

pub front-here : (s : Scope) (ms : List Mention) (n : ℕ) (ls done : List LocatedLine) (l : LocatedLine) (rest : List LocatedLine) (front : ℕ) → ls ≡ done ++ l ∷ rest → length done < front → AreLinesMentioned s ms n (take front ls) → AreMentioned ms n (hashes_of s l)
front-here s ms n ls done l rest front e few h = front-one s ms n done l rest front few (subst (λ (xs : List LocatedLine). AreLinesMentioned s ms n (take front xs)) e h)

pub back-here : (s : Scope) (ms : List Mention) (n : ℕ) (ls done : List LocatedLine) (l : LocatedLine) (rest : List LocatedLine) (from : ℕ) → ls ≡ done ++ l ∷ rest → from ≤ length done → AreLinesMentioned s ms n (drop from ls) → AreMentioned ms n (hashes_of s l)
back-here s ms n ls done l rest from e few h = back-one s ms n done l rest from few (subst (λ (xs : List LocatedLine). AreLinesMentioned s ms n (drop from xs)) e h)
