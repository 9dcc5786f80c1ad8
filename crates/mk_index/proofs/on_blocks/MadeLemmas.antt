-- Blocks that are all stale, and how many lines blocks have.
use Rattle.std.proofs.Common.{◌≡◌, refl, sym, ap, ◌∙◌, subst, arith, ℕ, zero, suc, ◌+◌, ◌*◌, ◌-◌, ◌≤◌, List, [], ◌∷◌, ◌++◌, Bool, true, length, length-append, take, drop, Option, Some, None, if◌then◌else◌}
use Rattle.std.specs.Prelude.{replicate}
use Rattle.std.proofs.lemmas.List.{drop_all, take-append-drop, length-take-le, length-drop}
use Rattle.mk_class.specs.Contexts.{Context}
use Rattle.mk_tree.specs.LocatedLines.{LocatedLine, with_last_bytes, context_after_located_lines}
use Rattle.mk_index.specs.Blocks.{AreBlocks, AreLinesMentioned, IsExpected, expected_after, lines_in}
use Rattle.mk_index.specs.Chains.{Mention}
use Rattle.mk_index.specs.declared.blocks.Block.{Block}
use Rattle.mk_index.specs.declared.keys.Scope.{Scope}

-- nothing is expected after a stale block
after-stale : (b : Block) (ls : List LocatedLine) → b.is_stale ≡ true → None ≡ expected_after b ls
after-stale b ls h = ap (λ (t : Bool). if t then None else Some (context_after_located_lines b.context ls)) (sym h)

-- none of the lines is mentioned, as far as it is known
no-front : (s : Scope) (ms : List Mention) (n : ℕ) (ls : List LocatedLine) (front : ℕ) → front ≡ 0 → AreLinesMentioned s ms n (take front ls)
no-front s ms n ls front e = rw e tt

no-back : (s : Scope) (ms : List Mention) (n : ℕ) (ls : List LocatedLine) (back : ℕ) → back ≡ 0 → AreLinesMentioned s ms n (drop (length ls - back) ls)
no-back s ms n ls back e =
    let none : drop (length ls - back) ls ≡ [] = drop_all (length ls - back) ls (omega (arith, e)) in
    subst (AreLinesMentioned s ms n) (sym none) tt

-- stale blocks of one length, and one more
pub stale-run : (s : Scope) (ms : List Mention) (n : ℕ) (o : Option Context) (ls : List LocatedLine) (k : ℕ) (b last : Block) (end : Context) → IsExpected o b.context → IsExpected o last.context → b.is_stale ≡ true → last.is_stale ≡ true → b.front ≡ 0 → b.back ≡ 0 → last.front ≡ 0 → last.back ≡ 0
    → k * b.count + last.count ≡ length ls → AreBlocks s ms n o ls (replicate k b ++ last ∷ []) end
stale-run s ms n o ls zero b last end eb el sb sl fb bb fl bl sum = record {
  inside = ls;
  after = [];
  lines_are = let e = take-append-drop (length ls) ls in append-none ls;
  count_is = omega (arith, sum);
  context_is = el;
  front_is = no-front s ms n ls last.front fl;
  back_is = no-back s ms n ls last.back bl;
  whole = λ f. absurd (cc);
  next_is = (refl, subst (λ (p : Option Context). IsExpected p end) (after-stale last ls sl) tt);
}
  where
    append-none : (xs : List LocatedLine) → xs ≡ xs ++ []
    append-none [] = refl
    append-none (x ∷ xs) = ap (λ (ys : List LocatedLine). x ∷ ys) (append-none xs)
stale-run s ms n o ls (suc k) b last end eb el sb sl fb bb fl bl sum =
    let few : b.count ≤ length ls = grind (arith, sum) in
    let left = length-drop b.count ls in
    record {
      inside = take b.count ls;
      after = drop b.count ls;
      lines_are = sym (take-append-drop b.count ls);
      count_is = sym (length-take-le b.count ls few);
      context_is = eb;
      front_is = no-front s ms n (take b.count ls) b.front fb;
      back_is = no-back s ms n (take b.count ls) b.back bb;
      whole = λ f. absurd (cc);
      next_is = subst (λ (p : Option Context). AreBlocks s ms (n + 1) p (drop b.count ls) (replicate k b ++ last ∷ []) end) (after-stale b (take b.count ls) sb)
          (stale-run s ms (n + 1) None (drop b.count ls) k b last end tt tt sb sl fb bb fl bl (grind (arith, sum, left)));
    }

-- how many lines there are
pub lines-counted : (s : Scope) (ms : List Mention) (n : ℕ) (o : Option Context) (ls : List LocatedLine) (bs : List Block) (end : Context) → AreBlocks s ms n o ls bs end → lines_in bs ≡ length ls
lines-counted s ms n o ls [] end h = sym (ap length h.0)
lines-counted s ms n o ls (b ∷ bs) end h =
    let below = lines-counted s ms (n + 1) _ h.after bs end h.next_is in
    let e = ap length h.lines_are in
    let m = length-append h.inside h.after in
    omega (arith, below, e, m, h.count_is)

-- the last line with other bytes is another last line
pub record HasLast (bytes : List ℕ) (ls : List LocatedLine) (last : ℕ) : Type 0 where
  pub line : LocatedLine
  pub lines_are : take last ls ++ (line ∷ [] ++ drop (last + 1) ls) ≡ with_last_bytes bytes ls

pub last-replaced : (bytes : List ℕ) (ls : List LocatedLine) (last : ℕ) → suc last ≡ length ls → HasLast bytes ls last
last-replaced bytes [] last e = absurd (omega (arith, e))
last-replaced bytes (l ∷ []) last e =
    let none : last ≡ 0 = omega (arith, e) in
    rw none (record { line = record l { bytes = bytes }; lines_are = refl })
last-replaced bytes (l ∷ k ∷ ls) zero e = absurd (omega (arith, e))
last-replaced bytes (l ∷ k ∷ ls) (suc last) e =
    let below = last-replaced bytes (k ∷ ls) last (omega (arith, e)) in
    let at : suc last + 1 ≡ suc (last + 1) = omega arith in
    record { line = below.line; lines_are = ap (λ (n : ℕ). l ∷ take last (k ∷ ls) ++ (below.line ∷ [] ++ drop n (l ∷ k ∷ ls))) at ∙ ap (λ (xs : List LocatedLine). l ∷ xs) below.lines_are }
