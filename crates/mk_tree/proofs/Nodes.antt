-- A line put between two trees: what its counts say.
use Rattle.std.proofs.Common.{◌≡◌, ℕ, ◌+◌, ◌≤◌, ◌<◌, max, arith, List, ◌∷◌, ◌++◌, length, length-append, refl, subst, sym, Option}
use Rattle.mk_lines.specs.Limits.{max_text}
use Rattle.mk_tree.specs.LocatedLines.{LocatedLine, size_of}
use Rattle.std.specs.Prelude.{IfSome}
use Rattle.mk_tree.specs.Runs.{AreRun}
use Rattle.mk_tree.specs.declared.run.Run.{Run}
use Rattle.mk_tree.specs.Trees.{DifferByAtMost, AreFew, IsNode, IsBalanced, IsTop, IsUnlinked, fewest_lines, lines_and_height}
use Rattle.mk_tree.specs.declared.tree.Line.{Line}
use Rattle.mk_tree.specs.declared.tree.Link.{Link}
use Rattle.mk_tree.specs.declared.tree.Link.TheVariants.{Empty, Full}
use Rattle.mk_tree.proofs.Heights.{fewest_lines-join, fewest_lines-low}
use Rattle.mk_tree.proofs.Indices.{size_of-append, size_of-whole}

-- what a line between two trees of almost the same height counts
pub node-join : (l r : List LocatedLine × ℕ) (x : LocatedLine) (higher lines_left lines_right : ℕ) (run : Option Run) → DifferByAtMost 1 l.1 r.1 → AreFew l.0 l.1 → AreFew r.0 r.1 → 0 < length x.bytes
    → size_of l.0 + length x.bytes + size_of r.0 ≤ max_text → higher ≡ max l.1 r.1 → lines_left ≡ length l.0 → lines_right ≡ length r.0
    → IfSome run (λ k. AreRun k (l.0 ++ x ∷ r.0)) → IsNode l x r (higher + 1) run (lines_left + 1 + lines_right)
node-join l r x higher lines_left lines_right run near a b some fits h m n is_run =
    let count : length (l.0 ++ x ∷ r.0) ≡ length l.0 + 1 + length r.0 = grind (arith, length-append) in
    let total : size_of (l.0 ++ x ∷ r.0) ≡ size_of l.0 + (length x.bytes + size_of r.0) = size_of-append l.0 (x ∷ r.0) in
    let height : higher + 1 ≡ max l.1 r.1 + 1 = omega (arith, h) in
    let enough : fewest_lines (higher + 1) ≤ length (l.0 ++ x ∷ r.0) = rw (height, count) (fewest_lines-join l.1 r.1 (length l.0) (length r.0) near a.enough b.enough) in
    let some_bytes : length (l.0 ++ x ∷ r.0) ≤ size_of (l.0 ++ x ∷ r.0) = omega (arith, count, total, a.some_bytes, b.some_bytes, some) in
    let few_bytes : size_of (l.0 ++ x ∷ r.0) ≤ max_text = omega (arith, total, fits) in
    record {
      height_is = height;
      balanced = near;
      lines_are = omega (arith, count, m, n);
      run_is = is_run;
      few = record {
        enough = enough;
        some_bytes = some_bytes;
        few_bytes = few_bytes;
        low = fewest_lines-low (higher + 1) (length (l.0 ++ x ∷ r.0)) enough (omega (arith, some_bytes, few_bytes));
      };
    }

-- the same counts hold with another line, and with other sides that are as high and as long
pub node-exchanged : (l r l' r' : List LocatedLine × ℕ) (x x' : LocatedLine) (height lines : ℕ) (run run' : Option Run) → IsNode l x r height run lines → l'.1 ≡ l.1 → r'.1 ≡ r.1 → length l'.0 ≡ length l.0 → length r'.0 ≡ length r.0
    → AreFew l'.0 l'.1 → AreFew r'.0 r'.1 → 0 < length x'.bytes → size_of l'.0 + length x'.bytes + size_of r'.0 ≤ max_text
    → IfSome run' (λ k. AreRun k (l'.0 ++ x' ∷ r'.0)) → IsNode l' x' r' height run' lines
node-exchanged l r l' r' x x' height lines run run' n hl hr nl nr a b some fits is_run =
    let near : DifferByAtMost 1 l'.1 r'.1 = rw (hl, hr) n.balanced in
    let joined : IsNode l' x' r' (max l.1 r.1 + 1) run' (length l.0 + 1 + length r.0) = node-join l' r' x' (max l.1 r.1) (length l.0) (length r.0) run' near a b some fits (rw (hl, hr) refl) (sym nl) (sym nr) is_run in
    let count : length l.0 + 1 + length r.0 ≡ lines = grind (arith, length-append, n.lines_are) in
    subst (λ h. IsNode l' x' r' h run' lines) (sym n.height_is) (subst (λ k. IsNode l' x' r' (max l.1 r.1 + 1) run' k) count joined)

-- every tree is low, and has a byte for each line
pub few-of_link : {A : _} (link : Link A) → IsBalanced link → AreFew (lines_and_height link).0 (lines_and_height link).1
few-of_link Empty h = record { enough = omega arith; some_bytes = omega arith; few_bytes = omega arith; low = omega arith }
few-of_link (Full height run lines l) h = h.few

-- what a node of a tree says of the tree
unlinked-of_node : (l r : List LocatedLine × ℕ) (x : LocatedLine) (height : ℕ) (run : Option Run) (lines : ℕ) → IsNode l x r height run lines → IsUnlinked (l.0 ++ x ∷ r.0, height) l x r
unlinked-of_node l r x height run lines h = record { lines = refl; size = size_of-whole l.0 r.0 x; height = h.height_is; balanced = h.balanced; few = h.few }

-- the top of a tree, with what stands before and after it
pub top-of_link : {A : _} (link : Link A) (height : ℕ) (run : Option Run) (lines : ℕ) (l : Line A) (whole : List LocatedLine × ℕ) → link ≡ Full height run lines l → IsBalanced link → lines_and_height link ≡ whole → IsTop whole l
top-of_link Empty height run lines l whole e h v = cc
top-of_link (Full k q n x) height run lines l whole e h v =
    let same : x ≡ l = cc in
    let here : IsTop (lines_and_height (Full k q n x)) x = unlinked-of_node x.node.value.left x.node.value.right x.node.value.content k q n h in
    subst (λ z. IsTop whole z) same (subst (λ w. IsTop w x) v here)
