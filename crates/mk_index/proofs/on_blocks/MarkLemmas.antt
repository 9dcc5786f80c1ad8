-- Blocks that are marked by hashes, and groups that have a marked block.
use Rattle.std.proofs.Common.{◌≡◌, ◌∙◌, refl, ap, arith, ℕ, ◌+◌, ◌-◌, ◌*◌, ◌/◌, ◌<◌, ◌≤◌, ◌==◌, List, [], ◌∷◌, Bool, true, false, length, get_or, drop, Some, None, inl, inr}
use Rattle.std.proofs.lemmas.List.{get_or-drop, length-drop}
use Rattle.memchr.specs.Find.{IsFirstByte, Nowhere, Passes, is_byte}
use Rattle.mk_tree.specs.LocatedLines.{LocatedLine}
use Rattle.mk_edit_parts.specs.LocatedParts.{AreEachClassed}
use Rattle.mk_edit_parts.specs.Windows.{NonePasses}
use Rattle.mk_index.specs.Blocks.{AreGroupMarks, AreLinesMentioned, IsNextMarked, NoneMarked, PassesInMarked}
use Rattle.mk_index.specs.Chains.{AreChainsOf, Mention, Stored}
use Rattle.mk_index.specs.Indexes.{AreMarked, PassesByKeys}
use Rattle.mk_index.specs.Keys.{hashes_of}
use Rattle.mk_index.proofs.on_chains.KeyLemmas.{mentioned-one}
use Rattle.mk_index.specs.declared.keys.Scope.{Scope}

-- the blocks of one hash are marked, and then those of two others
pub three-marked : (c : Stored) (x y z : ℕ) (marks new : List Bool) → AreMarked c (x ∷ x ∷ []) marks → length new ≡ length marks → ((b : ℕ) → get_or marks b false ≡ true → get_or new b false ≡ true) → AreMarked c (y ∷ z ∷ []) new → AreMarked c (x ∷ y ∷ z ∷ []) new
three-marked c x y z marks new one same kept two = λ ms chains h is b mentioned within. elim is [
  | inl here ↦ kept b (one ms chains h (inl here) b mentioned (omega (arith, within, same)))
  | inr more ↦ two ms chains h more b mentioned within
]

-- a test by keys passes no line of a block that is not marked
pub marked-passes : (s : Scope) (test : LocatedLine → Bool) (c : Stored) (hs : List ℕ) (ms : List Mention) (marks : List Bool) → PassesByKeys s test hs → AreMarked c hs marks → AreChainsOf ms c → PassesInMarked s test ms marks
marked-passes s test c hs ms marks by marked chains = λ b ls within unmarked classed mentioned. go b ls within unmarked classed mentioned
  where
    go : (b : ℕ) (ls : List LocatedLine) → b < length marks → get_or marks b false ≡ false → AreEachClassed ls → AreLinesMentioned s ms b ls → NonePasses test ls
    go b [] within unmarked classed mentioned = tt
    go b (l ∷ ls) within unmarked classed mentioned =
        (by l classed.0 (λ h one key. absurd (let is = marked ms chains h one b (mentioned-one ms b h (hashes_of s l) mentioned.0 key) within in cc)), go b ls within unmarked classed.1 mentioned.1)

-- ---- groups

-- no byte from a group on is 1 for so many groups: none of their blocks is marked
none-marked : (marks : List Bool) (gs : List ℕ) (from to n : ℕ) → AreGroupMarks marks gs → to ≤ from + n → Nowhere (Passes (is_byte 1) (drop from gs)) 0 n → NoneMarked from to marks
none-marked marks gs from to n h few none = λ b low high. go b low high (get_or marks b false) refl
  where
    go : (b : ℕ) → from * 128 ≤ b → b < to * 128 → (m : Bool) → get_or marks b false ≡ m → get_or marks b false ≡ false
    go b low high false e = e
    go b low high true e =
        let k : ℕ = b / 128 - from in
        let at : from + k ≡ b / 128 = omega (arith, low) in
        let one : get_or (drop from gs) k 0 ≡ 1 = get_or-drop from gs k 0 ∙ (ap (λ (i : ℕ). get_or gs i 0) at ∙ h.each b e) in
        let passes : (get_or (drop from gs) k 0 == 1) ≡ true = ap (λ (x : ℕ). x == 1) one in
        absurd (none k (omega arith) (omega (arith, at, high, few)) passes)

-- the first byte that is 1 from a group on
pub next-marked : (marks : List Bool) (gs : List ℕ) (from passed : ℕ) → AreGroupMarks marks gs → IsFirstByte (is_byte 1) (drop from gs) (Some passed) → IsNextMarked from (from + passed) marks
next-marked marks gs from passed h first = record {
  below = omega arith;
  there = let l = length-drop from gs in let high = first.0.high in let e = h.count_is in omega (arith, l, high, e);
  none = none-marked marks gs from (from + passed) passed h (omega arith) first.0.before;
}

-- no byte is 1 from a group on
pub no-more-marked : (marks : List Bool) (gs : List ℕ) (from : ℕ) → AreGroupMarks marks gs → IsFirstByte (is_byte 1) (drop from gs) None → NoneMarked from (length marks / 128 + 1) marks
no-more-marked marks gs from h first = none-marked marks gs from (length marks / 128 + 1) (length (drop from gs)) h (let l = length-drop from gs in let e = h.count_is in omega (arith, l, e)) first
