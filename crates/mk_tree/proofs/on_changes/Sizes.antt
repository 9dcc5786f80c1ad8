-- How many bytes a document has: those of its text, and after a line is put in or taken out.
use Rattle.std.proofs.Common.{◌≡◌, ℕ, zero, suc, ◌+◌, refl, sym, ap, ◌∙◌, arith, List, [], ◌∷◌, ◌++◌, length, length-append, take, drop, Some, suc-add}
use Rattle.std.specs.Prelude.{slice_get}
use Rattle.mk_tree.specs.LocatedLines.{LocatedLine, located_text, size_of}

-- ---- the size and the text

-- lines have the bytes of their text
pub size_of-text : (ls : List LocatedLine) → size_of ls ≡ length (located_text ls)
size_of-text [] = refl
size_of-text (l ∷ ls) = ap (λ n. length l.bytes + n) (size_of-text ls) ∙ sym (length-append l.bytes (located_text ls))

-- ---- the size after a change

-- the size after a line is taken out
pub size_of-removed : (ls : List LocatedLine) (at : ℕ) (x : LocatedLine) → Some x ≡ slice_get ls at → size_of (take at ls ++ drop (at + 1) ls) + length x.bytes ≡ size_of ls
size_of-removed [] at x h = absurd (cc)
size_of-removed (l ∷ ls) zero x h = let e : x ≡ l = cc in rw e (omega arith)
size_of-removed (l ∷ ls) (suc at) x h = rw (suc-add at 1) (omega (arith, size_of-removed ls at x h))
