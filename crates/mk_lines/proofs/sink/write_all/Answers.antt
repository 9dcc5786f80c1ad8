use Rattle.std.proofs.Common.{◌≡◌, ℕ, ◌+◌, ◌-◌, List, ◌++◌, length, take, drop, rules, ap, sym, ◌∙◌, subst}
use Rattle.std.proofs.Math.Seq.{take-add}
use Rattle.std.proofs.lemmas.List.{take_rest}
use Rattle.std.specs.Io.KnownBytes.{Appends}
use Rattle.std.proofs.KnownBytes.{Appends-trans}
use Rattle.mk_lines.proofs.sink.write_all.Goals as goal

-- the first `at` bytes and then n of the rest
front_more : (text : List ℕ) (at n : ℕ) → take at text ++ take n (take (length text - at) (drop at text)) ≡ take (at + n) text
front_more text at n = ap (λ l. take at text ++ take n l) (take_rest text at) ∙ sym (take-add at n text)

pub loop-at-preserved : goal.loop-at-preserved
loop-at-preserved g c =
    let (within, working, out, unflushed) = c.loop-at.invariant in
    let text = c.args.text.now in
    (search rules, search rules, subst (Appends _ _) (front_more text c.loop-at.at c.in_ok-count.count) (Appends-trans _ _ _ _ _ out c.in_ok-count.ensures.bytes), search rules)
