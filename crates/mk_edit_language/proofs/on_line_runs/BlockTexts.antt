-- The lines of a block tell its text: two blocks with the same lines are the same, and each has a line.
use Rattle.std.proofs.Common.{◌≡◌, refl, sym, ap, ◌∙◌, ℕ, List, [], ◌∷◌, Bool, true, false}
use Rattle.std.specs.Prelude.{◌==◌}
use Rattle.std.proofs.lemmas.Bool.{eqb-true}
use Rattle.mk_lines.specs.Lists.{onto_first}
use Rattle.mk_lines.specs.declared.ends.End.TheVariants as ends
use Rattle.mk_edit_language.specs.LineRuns.{before_texts, block_lines}
use Rattle.mk_edit_language.specs.LineExchanges.{with_line_ends}

-- the text of a block: its lines with LF between them
abbrev text_of : List (List ℕ) → List ℕ
text_of ts = with_line_ends ends.Lf ends.None ts

onto-some : (x : List ℕ) (ts : List (List ℕ)) → onto_first x ts ≡ [] → ⊥
onto-some x [] h = absurd (cc)
onto-some x (t ∷ ts) h = absurd (cc)

pub block-some : (x : List ℕ) → block_lines x ≡ [] → ⊥
block-some [] h = absurd (cc)
block-some (b ∷ x) h = go (b == 10) h
  where
    go : (n : Bool) → before_texts n b (block_lines x) ≡ [] → ⊥
    go true h = absurd (cc)
    go false h = onto-some (b ∷ []) (block_lines x) h

-- a byte before the text of some lines
text-before : (n : Bool) (b : ℕ) (ts : List (List ℕ)) → b == 10 ≡ n → (ts ≡ [] → ⊥) → text_of (before_texts n b ts) ≡ b ∷ text_of ts
text-before n b [] e some = absurd (some refl)
text-before true b (t ∷ ts) e some = ap (λ z. z ∷ text_of (t ∷ ts)) (sym (eqb-true b 10 e))
text-before false b (t ∷ []) e some = refl
text-before false b (t ∷ u ∷ ts) e some = refl

block-text : (x : List ℕ) → text_of (block_lines x) ≡ x
block-text [] = refl
block-text (b ∷ x) = text-before (b == 10) b (block_lines x) refl (block-some x) ∙ ap (λ z. b ∷ z) (block-text x)

pub block-same : (x y : List ℕ) → block_lines x ≡ block_lines y → x ≡ y
block-same x y h = sym (block-text x) ∙ (ap text_of h ∙ block-text y)
