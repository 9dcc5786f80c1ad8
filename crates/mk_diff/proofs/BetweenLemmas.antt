-- The lines between two indices.
use Rattle.std.proofs.Common.{◌≡◌, ℕ, ◌+◌, ◌-◌, ◌≤◌, List, [], ◌++◌, length, take, drop, sym, ap, ◌∙◌, arith}
use Rattle.std.proofs.lemmas.List.{take-append-drop, drop-drop, take-take, drop-take, length-take-le, length-drop}
use Rattle.std.proofs.Math.Seq.{take-add}
use Rattle.mk_diff.specs.Stretches.{between}

-- what stands between two indices is cut by an index between them
pub between-joined : (i k j : ℕ) (ls : List (List ℕ)) → i ≤ k → k ≤ j → between i k ls ++ between k j ls ≡ between i j ls
between-joined i k j ls low high =
    let rest : drop (k - i) (drop i ls) ≡ drop k ls = drop-drop (k - i) i ls ∙ ap (λ n. drop n ls) (omega arith) in
    ap (λ l. between i k ls ++ take (j - k) l) (sym rest)
    ∙ sym (take-add (k - i) (j - k) (drop i ls))
    ∙ ap (λ n. take n (drop i ls)) (omega arith)

-- and with what follows it is the rest
pub between-rest : (i k : ℕ) (ls : List (List ℕ)) → i ≤ k → between i k ls ++ drop k ls ≡ drop i ls
between-rest i k ls low =
    let rest : drop (k - i) (drop i ls) ≡ drop k ls = drop-drop (k - i) i ls ∙ ap (λ n. drop n ls) (omega arith) in
    ap (λ l. between i k ls ++ l) (sym rest) ∙ take-append-drop (k - i) (drop i ls)

-- nothing stands between an index and itself
pub between-none : (i : ℕ) (ls : List (List ℕ)) → between i i ls ≡ []
between-none i ls = let none : i - i ≡ 0 = omega arith in ap (λ n. take n (drop i ls)) none

pub length-between : (i j : ℕ) (ls : List (List ℕ)) → i ≤ j → j ≤ length ls → length (between i j ls) ≡ j - i
length-between i j ls order within = length-take-le (j - i) (drop i ls) (omega (arith, length-drop i ls))

-- If two texts are the same between two indices, they are so in each part.
pub same-front : (i k s j l t : ℕ) (old new : List (List ℕ)) → between i s old ≡ between j t new → s + j ≡ t + i → i ≤ k → k ≤ s → k + j ≡ l + i
    → between i k old ≡ between j l new
same-front i k s j l t old new same even low high moved =
    let left : between i k old ≡ take (k - i) (between i s old) = sym (take-take (k - i) (s - i) (drop i old) (omega arith)) in
    let right : take (k - i) (between j t new) ≡ between j l new =
    ap (λ n. take n (between j t new)) (omega arith) ∙ take-take (l - j) (t - j) (drop j new) (omega arith) in
    left ∙ ap (take (k - i)) same ∙ right

back-of : (i k s : ℕ) (ls : List (List ℕ)) → i ≤ k → k ≤ s → between k s ls ≡ drop (k - i) (between i s ls)
back-of i k s ls low high =
    let cut : drop (k - i) (take ((k - i) + (s - k)) (drop i ls)) ≡ take (s - k) (drop (k - i) (drop i ls)) = drop-take (k - i) (s - k) (drop i ls) in
    let rest : drop (k - i) (drop i ls) ≡ drop k ls = drop-drop (k - i) i ls ∙ ap (λ n. drop n ls) (omega arith) in
    sym (ap (take (s - k)) rest) ∙ sym cut ∙ ap (λ n. drop (k - i) (take n (drop i ls))) (omega arith)

pub same-back : (i k s j l t : ℕ) (old new : List (List ℕ)) → between i s old ≡ between j t new → s + j ≡ t + i → i ≤ k → k ≤ s → k + j ≡ l + i
    → between k s old ≡ between l t new
same-back i k s j l t old new same even low high moved =
    back-of i k s old low high ∙ ap (drop (k - i)) same ∙ ap (λ n. drop n (between j t new)) (omega arith)
    ∙ sym (back-of j l t new (omega arith) (omega arith))
