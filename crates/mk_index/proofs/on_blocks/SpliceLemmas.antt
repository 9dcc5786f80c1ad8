-- Lines of one block that go out, and lines that come in for them.
use Rattle.std.proofs.Common.{◌≡◌, refl, ap, ◌∙◌, subst, arith, ℕ, zero, suc, ◌+◌, ◌-◌, ◌≤◌, List, [], ◌∷◌, true, length, take, get_or, set, Option, None}
use Rattle.mk_class.specs.Contexts.{Context}
use Rattle.mk_tree.specs.LocatedLines.{LocatedLine}
use Rattle.mk_index.specs.Blocks.{AreBlocks, lines_in}
use Rattle.mk_index.specs.Chains.{Mention}
use Rattle.mk_index.specs.declared.blocks.Block.{Block}
use Rattle.mk_index.proofs.on_blocks.ChangedLines.{with-back, with-front, with-length, with_lines}
use Rattle.mk_index.proofs.on_blocks.PartLemmas.{back-kept, front-kept}
use Rattle.mk_index.specs.declared.keys.Scope.{Scope}

-- blocks after some context are blocks after any
pub unexpected : (s : Scope) (ms : List Mention) (n : ℕ) (o : Option Context) (ls : List LocatedLine) (bs : List Block) (end : Context) → AreBlocks s ms n o ls bs end → AreBlocks s ms n None ls bs end
unexpected s ms n o ls [] end h = (h.0, tt)
unexpected s ms n o ls (b ∷ bs) end h =
    record { inside = h.inside; after = h.after; lines_are = h.lines_are; count_is = h.count_is; context_is = tt; front_is = h.front_is; back_is = h.back_is; whole = h.whole; next_is = h.next_is }

-- the block that has the lines, after the change
pub spliced : (s : Scope) (ms : List Mention) (n : ℕ) (o : Option Context) (ls ins : List LocatedLine) (bs : List Block) (end : Context) (k at rest takes puts count front back : ℕ) (b new : Block)
    → AreBlocks s ms n o ls bs end → suc k ≤ length bs → b ≡ get_or bs k b → lines_in (take k bs) + rest ≡ at → rest + takes ≤ b.count → length ins ≡ puts → count ≡ b.count - takes + puts
    → front ≤ b.front → front ≤ rest → back ≤ b.back → back ≤ b.count - rest - takes → new ≡ record { count = count; front = front; back = back; context = b.context; is_stale = true }
    → AreBlocks s ms n o (with_lines at takes ins ls) (set bs k new) end
spliced s ms n o ls ins [] end k at rest takes puts count front back b new h few is sum within put counted f1 f2 b1 b2 new_is = absurd (omega (arith, few))
spliced s ms n o ls ins (c ∷ bs) end zero at rest takes puts count front back b new h few is sum within put counted f1 f2 b1 b2 new_is =
    let same : b ≡ c = is in
    let inside_is : rest + takes ≤ length h.inside = omega (arith, within, ap (λ (x : Block). x.count) same, h.count_is) in
    let here : at ≡ rest = omega (arith, sum) in
    rw (new_is, same, here) (record {
      inside = with_lines rest takes ins h.inside;
      after = h.after;
      lines_are = ap (with_lines rest takes ins) h.lines_are ∙ with-front rest takes ins h.inside h.after inside_is;
      count_is = omega (arith, counted, ap (λ (x : Block). x.count) same, h.count_is, put, with-length rest takes ins h.inside inside_is);
      context_is = h.context_is;
      front_is = front-kept s ms n ins h.inside rest takes c.front front (subst (λ (x : Block). front ≤ x.front) same f1) f2 (omega (arith, inside_is)) h.front_is;
      back_is = back-kept s ms n ins h.inside rest takes c.back back (subst (λ (x : Block). back ≤ x.back) same b1) (omega (arith, b2, ap (λ (x : Block). x.count) same, h.count_is)) inside_is h.back_is;
      whole = λ e. absurd (cc);
      next_is = unexpected s ms (n + 1) _ h.after bs end h.next_is;
    })
spliced s ms n o ls ins (c ∷ bs) end (suc k) at rest takes puts count front back b new h few is sum within put counted f1 f2 b1 b2 new_is =
    let deeper : at ≡ length h.inside + (lines_in (take k bs) + rest) = omega (arith, sum, h.count_is) in
    let m = lines_in (take k bs) + rest in
    record {
      inside = h.inside;
      after = with_lines m takes ins h.after;
      lines_are = ap (λ i. with_lines i takes ins ls) deeper ∙ (ap (with_lines (length h.inside + m) takes ins) h.lines_are ∙ with-back m takes ins h.inside h.after);
      count_is = h.count_is;
      context_is = h.context_is;
      front_is = h.front_is;
      back_is = h.back_is;
      whole = h.whole;
      next_is = spliced s ms (n + 1) _ h.after ins bs end k m rest takes puts count front back b new h.next_is (omega (arith, few)) is refl within put counted f1 f2 b1 b2 new_is;
    }

-- the lines of one block more
pub lines_in-more : (bs : List Block) (k n : ℕ) (b : Block) → n ≡ suc k → suc k ≤ length bs → b ≡ get_or bs k b → lines_in (take n bs) ≡ lines_in (take k bs) + b.count
lines_in-more [] k n b e few is = absurd (omega (arith, few))
lines_in-more (c ∷ bs) zero n b e few is = rw e (let f = ap (λ (x : Block). x.count) is in omega (arith, f))
lines_in-more (c ∷ bs) (suc k) n b e few is = rw e (let f = lines_in-more bs k (suc k) b refl (omega (arith, few)) is in omega (arith, f))
