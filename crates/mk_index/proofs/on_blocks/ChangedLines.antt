-- Lines of which some are replaced.
use Rattle.std.proofs.Common.{◌≡◌, sym, ap, ◌∙◌, arith, ℕ, ◌+◌, ◌-◌, ◌≤◌, List, ◌++◌, length, length-append, append_assoc, take, drop}
use Rattle.std.proofs.lemmas.List.{take-append-le, drop-append-le, length-take-le, length-drop}
use Rattle.std.proofs.Math.Seq.{take-append-add, drop-append-add}
use Rattle.mk_tree.specs.LocatedLines.{LocatedLine}

-- some lines, of which those from an index on are replaced
abbrev pub with_lines : (at takes : ℕ) → (put_in : List LocatedLine) → List LocatedLine → List LocatedLine
with_lines at takes ins ls = take at ls ++ (ins ++ drop (at + takes) ls)

pub with-front : (at takes : ℕ) (ins inside after : List LocatedLine) → at + takes ≤ length inside → with_lines at takes ins (inside ++ after) ≡ with_lines at takes ins inside ++ after
with-front at takes ins inside after h =
    let l : take at (inside ++ after) ≡ take at inside = take-append-le at inside after (omega (arith, h)) in
    let r : drop (at + takes) (inside ++ after) ≡ drop (at + takes) inside ++ after = drop-append-le (at + takes) inside after h in
    rw (l, r) (sym (append_assoc (take at inside) (ins ++ drop (at + takes) inside) after ∙ ap (λ xs. take at inside ++ xs) (append_assoc ins (drop (at + takes) inside) after)))

pub with-back : (at takes : ℕ) (ins inside after : List LocatedLine) → with_lines (length inside + at) takes ins (inside ++ after) ≡ inside ++ with_lines at takes ins after
with-back at takes ins inside after =
    let e : length inside + at + takes ≡ length inside + (at + takes) = omega arith in
    let l = take-append-add inside after at in
    let r : drop (length inside + at + takes) (inside ++ after) ≡ drop (at + takes) after = ap (λ n. drop n (inside ++ after)) e ∙ drop-append-add inside after (at + takes) in
    rw (l, r) (append_assoc inside (take at after) (ins ++ drop (at + takes) after))

pub with-length : (at takes : ℕ) (ins inside : List LocatedLine) → at + takes ≤ length inside → length (with_lines at takes ins inside) ≡ length inside - takes + length ins
with-length at takes ins inside h =
    let a = length-append (take at inside) (ins ++ drop (at + takes) inside) in
    let b = length-append ins (drop (at + takes) inside) in
    let c = length-take-le at inside (omega (arith, h)) in
    let d = length-drop (at + takes) inside in
    omega (arith, a, b, c, d, h)
