-- How cells end beside others, so that a line's end stays as it was: they are none, or end in an ordinary byte, or in the same cells.
use Rattle.std.proofs.Common.{◌≡◌, refl, sym, ap, ◌∙◌, subst, ℕ, List, [], ◌∷◌, ◌++◌, true, append_assoc, reverse}
use Rattle.std.proofs.lemmas.List.{append-nil}
use Rattle.mk_lines.specs.Bytes.{byte_kind}
use Rattle.mk_lines.specs.Bytes.ByteKind.{Ordinary}
use Rattle.mk_lines.specs.Cells.{Cell, Byte, raw_text}
use Rattle.mk_lines.proofs.on_cells.LineOfCells.{is_reset, is_reset_kind}
use Rattle.mk_lines.proofs.on_lines.LineEndLemmas.{KeepsApart}
use Rattle.mk_lines.proofs.on_cells.LineCells.{AreLineCells, AreLineCells-right, EndLineBefore, EndLineBefore-tail, EndLineBefore-last, KeepsApart-tail, KeepsApart-last}
use Rattle.mk_lines.specs.declared.ends.End.{End}
use Rattle.mk_edit_language.proofs.on_lines.HeadUnits.{EndsSolid}

-- how new cells end beside old ones
pub data EndsAs (new old : List Cell) : Type 0 where
  -- there are no new cells
  EndsEmpty : new ≡ [] → EndsAs new old
  -- the new cells end in an ordinary byte
  EndsOrdinary : (front : List Cell) (last : ℕ) → new ≡ front ++ Byte last ∷ [] → byte_kind last ≡ Ordinary → EndsAs new old
  -- the new cells end in the same cells as the old ones, the first of which is a blank, a fold or an ordinary byte
  EndsSame : (a b : List Cell) (d : Cell) (D : List Cell) → new ≡ a ++ d ∷ D → old ≡ b ++ d ∷ D → is_reset d ≡ true → EndsAs new old

-- cells end as themselves, if the first of them is a blank, a fold or an ordinary byte
pub EndsAs-same : (d : Cell) (D : List Cell) → is_reset d ≡ true → EndsAs (d ∷ D) (d ∷ D)
EndsAs-same d D h = EndsSame [] [] d D refl refl h

-- whatever stands before the old ones
pub EndsAs-old : (x a b : List Cell) → EndsAs a b → EndsAs a (x ++ b)
EndsAs-old x a b (EndsEmpty h) = EndsEmpty h
EndsAs-old x a b (EndsOrdinary f l h k) = EndsOrdinary f l h k
EndsAs-old x a b (EndsSame p q d D h k r) = EndsSame p (x ++ q) d D h (ap (λ z. x ++ z) k ∙ sym (append_assoc x q (d ∷ D))) r

-- cells that end as others do, after cells that end in an ordinary byte
pub EndsAs-after : (x y a b : List Cell) → EndsSolid x → EndsAs a b → EndsAs (x ++ a) (y ++ b)
EndsAs-after x y a b s (EndsEmpty h) = EndsOrdinary s.front s.last (ap (λ z. x ++ z) h ∙ (append-nil x ∙ s.is)) s.ordinary
EndsAs-after x y a b s (EndsOrdinary f l h k) = EndsOrdinary (x ++ f) l (ap (λ z. x ++ z) h ∙ sym (append_assoc x f (Byte l ∷ []))) k
EndsAs-after x y a b s (EndsSame p q d D h k r) =
    EndsSame (x ++ p) (y ++ q) d D (ap (λ z. x ++ z) h ∙ sym (append_assoc x p (d ∷ D))) (ap (λ z. y ++ z) k ∙ sym (append_assoc y q (d ∷ D))) r

-- cells that end as others do, before the same cells
pub EndsAs-before : (a b : List Cell) (d : Cell) (D : List Cell) → is_reset d ≡ true → EndsAs (a ++ d ∷ D) (b ++ d ∷ D)
EndsAs-before a b d D h = EndsSame a b d D refl refl h

ordinary-reset : (b : ℕ) → byte_kind b ≡ Ordinary → is_reset_kind (byte_kind b) ≡ true
ordinary-reset b h = ap is_reset_kind h

-- a line end stays apart from cells that end as the old ones did, and ends the line after them
pub record KeepsLineEnd (e : End) (new : List Cell) (below : List (List ℕ)) : Type 0 where
  pub apart : KeepsApart e (reverse (raw_text new))
  pub ends : EndLineBefore e new below

-- the line end is kept as it was with the old cells
pub line_end-kept : (e : End) (below : List (List ℕ)) (x a b : List Cell) → EndsSolid x → EndsAs a b → (y : List Cell) → AreLineCells (x ++ a) → AreLineCells (y ++ b)
    → KeepsApart e (reverse (raw_text (y ++ b))) → EndLineBefore e (y ++ b) below → KeepsLineEnd e (x ++ a) below
line_end-kept e below x a b s h y n o k m = go (x ++ a) (y ++ b) (EndsAs-after x y a b s h) (λ q. absurd (none x s q)) n o k m
  where
    none : (x : List Cell) → EndsSolid x → x ++ a ≡ [] → ⊥
    none [] s q = at s.front s.is
      where
        at : (f : List Cell) → [] ≡ f ++ Byte s.last ∷ [] → ⊥
        at [] i = cc
        at (c ∷ f) i = cc
    none (c ∷ x) s q = cc

    go : (new old : List Cell) → EndsAs new old → (new ≡ [] → ⊥) → AreLineCells new → AreLineCells old → KeepsApart e (reverse (raw_text old)) → EndLineBefore e old below → KeepsLineEnd e new below
    go new old (EndsEmpty q) t n o k m = absurd (t q)
    go new old (EndsOrdinary f l q r) t n o k m = record {
      apart = subst (λ z. KeepsApart e (reverse (raw_text z))) (sym q) (KeepsApart-last e f l (ordinary-reset l r));
      ends = subst (λ z. EndLineBefore e z below) (sym q) (EndLineBefore-last e old f (Byte l) below (ordinary-reset l r) o (subst AreLineCells q n) m);
    }
    go new old (EndsSame p q d D i j r) t n o k m =
        let o' : AreLineCells (q ++ d ∷ D) = subst AreLineCells j o in
        let n' : AreLineCells (p ++ d ∷ D) = subst AreLineCells i n in
        let v = (AreLineCells-right q (d ∷ D) o').are_cells.0 in
        record {
          apart = subst (λ z. KeepsApart e (reverse (raw_text z))) (sym i) (KeepsApart-tail e q p d D r v (subst (λ z. KeepsApart e (reverse (raw_text z))) j k));
          ends = subst (λ z. EndLineBefore e z below) (sym i) (EndLineBefore-tail e q p d D below r o' n' (subst (λ z. EndLineBefore e z below) j m));
        }
