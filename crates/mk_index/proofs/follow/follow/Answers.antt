use Rattle.std.proofs.Common.{◌≡◌, ◌+◌, refl, subst, arith, ℕ, List, [], ◌∷◌, ◌++◌, length, take, drop}
use Rattle.mk_tree.specs.LocatedLines.{LocatedLine}
use Rattle.mk_tree.specs.Trees.{line_view}
use Rattle.mk_index.specs.Blocks.{AreBlocks}
use Rattle.mk_index.proofs.on_blocks.MadeLemmas.{last-replaced}
use Rattle.mk_index.proofs.follow.follow.Goals as goal

pub returns-in-PutIn : goal.returns-in-PutIn
returns-in-PutIn g c = λ s ms n o ls end h fit done.
    let none : c.in-PutIn.at + 0 ≡ c.in-PutIn.at = omega arith in
    let put = line_view c.in-PutIn.field-1 ∷ [] in
    rw c.in-PutIn.is (subst (λ (m : ℕ). AreBlocks s ms n o (take c.in-PutIn.at ls ++ (put ++ drop m ls)) c.splice.new.blocks end) none (c.splice.ensures s ms n o ls put end h refl done))

pub returns-in-TakeOut : goal.returns-in-TakeOut
returns-in-TakeOut g c = λ s ms n o ls end h fit done. rw c.in-TakeOut.is (c.splice-in-TakeOut.ensures s ms n o ls [] end h refl done)

pub returns-in-Exchange : goal.returns-in-Exchange
returns-in-Exchange g c = λ s ms n o ls end h fit done. rw c.in-Exchange.is (c.splice-in-Exchange.ensures s ms n o ls (line_view c.in-Exchange.field-1 ∷ []) end h refl done)

pub returns-in-Some : goal.returns-in-Some
returns-in-Some g c = λ s ms n o ls end h fit done.
    let is_last : c.in-Some.last + 1 ≡ length ls = c.in-Some.ensures s ms n o ls end h in
    let last = last-replaced c.in-SwapEnd.field-0 ls c.in-Some.last (omega (arith, is_last)) in
    rw c.in-SwapEnd.is (subst (λ (new : List LocatedLine). AreBlocks s ms n o new c.splice-in-Some.new.blocks end) last.lines_are (c.splice-in-Some.ensures s ms n o ls (last.line ∷ []) end h refl done))
