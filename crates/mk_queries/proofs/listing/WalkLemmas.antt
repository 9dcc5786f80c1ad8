-- A walk passes one more line.
use Rattle.std.proofs.Common.{◌≡◌, ◌==◌, refl, sym, ap, ◌∙◌, subst, arith, ℕ, ◌+◌, ◌<◌, ◌≤◌, List, [], ◌∷◌, ◌++◌, length, length-append, take, drop, take-append-drop, append_assoc, count_by, cond}
use Rattle.std.proofs.lemmas.List.{length-take-le, length-drop, take_at}
use Rattle.std.proofs.lemmas.List.Sums.{sum_by-append, count_by-le-length}
use Rattle.mk_lines.specs.Limits.{max_text}
use Rattle.mk_class.specs.Contexts.{Context, start, conditionals_after_located}
use Rattle.mk_tree.specs.LocatedLines.{LocatedLine, AreConditionalsFit, context_after_located_lines, located_text, size_of}
use Rattle.mk_tree.proofs.AdmissionLemmas.{context_after-step, drop-step}
use Rattle.mk_tree.proofs.OriginLemmas.{text-step}
use Rattle.mk_queries.specs.declared.listing.position.Position.{Position}
use Rattle.mk_queries.specs.Listings.{Walk, position_below}

-- the lines passed, one more
take-passed : (ls ahead left : List LocatedLine) (x : LocatedLine) (n : ℕ) → ahead ≡ drop n ls → ahead ≡ x ∷ left → take (n + 1) ls ≡ take n ls ++ x ∷ []
take-passed ls ahead left x n rest first =
    let e : drop n ls ≡ x ∷ left = sym rest ∙ first in
    let short : n < length ls = omega (arith, length-drop n ls, ap length e) in
    let whole : ls ≡ (take n ls ++ x ∷ []) ++ left =
    sym (take-append-drop n ls) ∙ (ap (λ z. take n ls ++ z) e ∙ sym (append_assoc (take n ls) (x ∷ []) left)) in
    ap (take (n + 1)) whole
    ∙ take_at (take n ls ++ x ∷ []) left (n + 1) (length-append (take n ls) (x ∷ []) ∙ ap (λ k. k + 1) (length-take-le n ls (omega (arith, short))))

drop-passed : (ls left : List LocatedLine) (x : LocatedLine) (n : ℕ) → drop n ls ≡ x ∷ left → left ≡ drop (n + 1) ls
drop-passed ls left x n e = sym (drop-step ls left x n e)

position-is : (p : Position) (i n c : ℕ) → p.index ≡ i → p.number ≡ n → p.conditionals ≡ c → p ≡ record { index = i; number = n; conditionals = c }
position-is p i n c e f g = rw (sym e, sym f, sym g) refl

-- where the line below a line stands
position-passed : (doc left : List LocatedLine) (x : LocatedLine) (p next : Position) → p ≡ position_below (take p.index doc) → drop p.index doc ≡ x ∷ left
    → next.index ≡ p.index + 1 → next.number ≡ p.number + count_by (λ b. b == 10) x.bytes → next.conditionals ≡ conditionals_after_located p.conditionals x.class
    → next ≡ position_below (take (p.index + 1) doc)
position-passed doc left x p next here d i n c =
    let above = take-passed doc (x ∷ left) left x p.index (sym d) refl in
    let feeds : count_by (λ b. b == 10) (located_text (take (p.index + 1) doc)) ≡ count_by (λ b. b == 10) (located_text (take p.index doc)) + count_by (λ b. b == 10) x.bytes =
    ap (count_by (λ b. b == 10)) (text-step doc (x ∷ left) left x p.index d refl) ∙ sum_by-append (λ b. cond (b == 10) 1 0) (located_text (take p.index doc)) x.bytes in
    let index : p.index ≡ length (take p.index doc) = ap (λ (z : Position). z.index) here in
    let number : p.number ≡ count_by (λ b. b == 10) (located_text (take p.index doc)) + 1 = ap (λ (z : Position). z.number) here in
    let conds : p.conditionals ≡ (context_after_located_lines start (take p.index doc)).conditionals = ap (λ (z : Position). z.conditionals) here in
    position-is next (length (take (p.index + 1) doc)) (count_by (λ b. b == 10) (located_text (take (p.index + 1) doc)) + 1) (context_after_located_lines start (take (p.index + 1) doc)).conditionals
    (omega (arith, i, index, ap length above, length-append (take p.index doc) (x ∷ [])))
    (omega (arith, n, number, feeds))
    (c ∙ (ap (λ k. conditionals_after_located k x.class) conds ∙ ap (λ (z : Context). z.conditionals) (sym (context_after-step start doc left x p.index d))))

-- what holds of a walk, after one more line
pub passed : (doc ahead left : List LocatedLine) (x : LocatedLine) (p next : Position)
    → (p ≡ position_below (take p.index doc)) × (ahead ≡ drop p.index doc) × AreConditionalsFit p.conditionals ahead × (p.index + length ahead ≤ max_text) × (p.number + size_of ahead ≤ max_text + 1)
    → ahead ≡ x ∷ left → next.index ≡ p.index + 1 → next.number ≡ p.number + count_by (λ b. b == 10) x.bytes → next.conditionals ≡ conditionals_after_located p.conditionals x.class
    → (next ≡ position_below (take next.index doc)) × (left ≡ drop next.index doc) × AreConditionalsFit next.conditionals left × (next.index + length left ≤ max_text) × (next.number + size_of left ≤ max_text + 1)
passed doc ahead left x p next h e i n c =
    let d : drop p.index doc ≡ x ∷ left = sym h.1 ∙ e in
    let fits : AreConditionalsFit p.conditionals (x ∷ left) = subst (AreConditionalsFit p.conditionals) e h.2 in (
      position-passed doc left x p next h.0 d i n c ∙ ap (λ k. position_below (take k doc)) (sym i),
      drop-passed doc left x p.index d ∙ ap (λ k. drop k doc) (sym i),
      subst (λ k. AreConditionalsFit k left) (sym c) fits.1,
      omega (arith, i, h.3, ap length e),
      omega (arith, n, h.4, ap size_of e, count_by-le-length (λ b. b == 10) x.bytes),
    )

-- what a walk hands out
pub handed : (w : Walk) (doc ahead left : List LocatedLine) (x : LocatedLine) (p : Position) → record { above = take p.index doc; ahead = ahead } ≡ w → p ≡ position_below (take p.index doc)
    → ahead ≡ drop p.index doc → ahead ≡ x ∷ left → (p ≡ position_below w.above) × (w.ahead ≡ x ∷ left) × (take (p.index + 1) doc ≡ w.above ++ x ∷ [])
handed w doc ahead left x p seen here rest e =
    subst (λ (w : Walk). (p ≡ position_below w.above) × (w.ahead ≡ x ∷ left) × (take (p.index + 1) doc ≡ w.above ++ x ∷ [])) seen
    (here, e, take-passed doc ahead left x p.index rest e)
