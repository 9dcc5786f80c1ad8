use Rattle.std.proofs.Common.{◌≡◌, ◌∷◌, [], List, ℕ, sym, subst, rules, Result, Ok, Err}
use Rattle.std.specs.Prelude.{IfOk, IfSome}
use Rattle.std.specs.Result.{result_ok}
use Rattle.mk_index.specs.Blocks.{PassesInMarked}
use Rattle.mk_index.specs.Indexes.{AreMarked, IsFreshIndexOf, PassesByKeys, Stored}
use Rattle.mk_index.proofs.on_blocks.MarkLemmas.{marked-passes}
use Rattle.mk_index.proofs.index.Index.windows.Goals as goal

some-if_ok : {X E : Type 0} (P : X → Type 0) (r : Result X E) → IfOk r P → IfSome (result_ok r) P
some-if_ok P (Ok x) h = h
some-if_ok P (Err e) h = tt

pub returns-clause-windows : goal.returns-clause-windows
returns-clause-windows g c = λ test by.
    let hashes : List ℕ = 0 ∷ c.args.first ∷ c.args.second ∷ [] in
    let now : Stored = c.take_marks.new.self in
    let same : now ≡ c.args.self.now = c.take_marks.ensures.same in
    let index : IsFreshIndexOf c.args.doc.now now = subst (λ (s : Stored). IsFreshIndexOf c.args.doc.now s) (sym same) c.requires.index in
    let i = index.index_is in
    let keys : PassesByKeys now.scope test hashes = subst (λ (s : Stored). PassesByKeys s.scope test hashes) (sym same) by in
    let new = c.mark_all.new.marks in
    let marked : AreMarked now.chains hashes new = subst (λ (s : Stored). AreMarked s.chains hashes new) c.self.view_is (c.if-not-mark_all.ensures.marked (search rules)) in
    let passes : PassesInMarked now.scope test i.mentions new = marked-passes now.scope test now.chains hashes i.mentions new keys marked i.chains_are in
    let made = c.marked_windows.ensures test i.mentions i.blocks_are passes in
    rw c.ok-windows.ensures.value (some-if_ok _ c.marked_windows.result made)
