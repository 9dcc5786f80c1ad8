-- No mark is taken back, and the blocks of both hashes are marked or ahead.
use Rattle.std.proofs.Common.{◌≡◌, ℕ, List, length, get_or, true, false}
use Rattle.mk_index.specs.Chains.{AreChainsOf, Mention}
use Rattle.mk_index.proofs.on_chains.WalkLemmas.{Walk}
use Rattle.mk_index.proofs.chains.Chains.mark.Given as goal

abbrev pub invariant-entries : goal.invariant-entries
invariant-entries g l = record {
  length : length l.marks ≡ length l.fn.marks;
  kept : (b : ℕ) → get_or l.fn.marks b false ≡ true → get_or l.marks b false ≡ true;
  walk : (ms : List Mention) → AreChainsOf ms l.self → Walk ms l.first l.self l.number l.marks;
  other : (ms : List Mention) → AreChainsOf ms l.self → Walk ms l.second l.self l.other l.marks;
}
