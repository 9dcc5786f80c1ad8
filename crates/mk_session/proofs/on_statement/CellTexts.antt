-- A text in another, and the bytes of cells and units.
use Rattle.std.proofs.Common.{◌≡◌, refl, sym, ap, ◌∙◌, subst, arith, ℕ, ◌<◌, ◌≤◌, List, [], ◌∷◌, ◌++◌, map, false, append_assoc}
use Rattle.std.proofs.lemmas.Bool.{le-ltb, ltb-false}
use Rattle.std.proofs.lemmas.List.{append-nil}
use Rattle.std.proofs.lemmas.List.Elements.{All-nil, All-cons}
use Rattle.std.proofs.lemmas.List.Folds.{list_any_none}
use Rattle.std.specs.Prelude.{nat_lt, All}
use Rattle.std.specs.List.{list_any}
use Rattle.mk_lines.specs.Lists.{concat}
use Rattle.mk_lines.proofs.on_lists.BoolLemmas.{or-left_false, or-right_false}
use Rattle.mk_lines.proofs.on_lists.ListLemmas.{concat-append}
use Rattle.mk_lines.specs.PhysicalLines.{line_end, line_end_bytes, without_line_end}
use Rattle.mk_lines.specs.Cells.{Cell, Byte, Fold, LfEnd, CrLfEnd, joined_byte, raw_text, line_cells}
use Rattle.mk_lines.proofs.on_cells.CellLemmas.{raw_text-append, raw_text-cells}
use Rattle.mk_lines.proofs.on_lines.LineEndLemmas.{without_line_end-line_end}
use Rattle.mk_session.specs.Statement.{Has}

-- ---- a text in another

pub has-nothing : (t : List ℕ) → Has [] t
has-nothing t = ([], t, refl)

pub has-all : (t : List ℕ) → Has t t
has-all t = ([], [], sym (append-nil t))

pub has-left : (p a b : List ℕ) → Has p a → Has p (a ++ b)
has-left p a b h = (h.0, h.1 ++ b, ap (λ z. z ++ b) h.2 ∙ (append_assoc h.0 (p ++ h.1) b ∙ ap (λ z. h.0 ++ z) (append_assoc p h.1 b)))

pub has-right : (p a b : List ℕ) → Has p b → Has p (a ++ b)
has-right p a b h = (a ++ h.0, h.1, ap (λ z. a ++ z) h.2 ∙ sym (append_assoc a h.0 (p ++ h.1)))

-- a text at the front of another
pub has-front : (p b : List ℕ) → Has p (p ++ b)
has-front p b = ([], b, refl)

-- the text that contains it may be told by an equation
pub has-in : (p t u : List ℕ) → t ≡ u → Has p u → Has p t
has-in p t u e h = subst (Has p) (sym e) h

-- ---- the bytes of cells

-- a word has no blank if all of its bytes are above 32
pub all-solid : (w : List ℕ) → All (λ b. 32 < b) w → list_any (λ b. nat_lt b 33) w ≡ false
all-solid w h = list_any_none (λ b. nat_lt b 33) w (λ k d l. le-ltb _ 33 (omega (arith, h k d l)))

pub solid-all : (w : List ℕ) → list_any (λ b. nat_lt b 33) w ≡ false → All (λ b. 32 < b) w
solid-all [] h = All-nil (λ b. 32 < b)
solid-all (b ∷ w) h =
    let high : 33 ≤ b = ltb-false b 33 (or-left_false (nat_lt b 33) (list_any (λ x. nat_lt x 33) w) h) in
    All-cons (λ x. 32 < x) b w (omega (arith, high)) (solid-all w (or-right_false (nat_lt b 33) (list_any (λ x. nat_lt x 33) w) h))

-- cells whose joined text has no blank are that text
solid-raw : (cs : List Cell) → list_any (λ b. nat_lt b 33) (map joined_byte cs) ≡ false → raw_text cs ≡ map joined_byte cs
solid-raw [] h = refl
solid-raw (Byte b ∷ cs) h = ap (λ z. b ∷ z) (solid-raw cs (or-right_false (nat_lt b 33) (list_any (λ x. nat_lt x 33) (map joined_byte cs)) h))
solid-raw (Fold r ∷ cs) h = absurd (cc)
solid-raw (LfEnd r ∷ cs) h = absurd (cc)
solid-raw (CrLfEnd r ∷ cs) h = absurd (cc)

-- so they have a word that is their joined text
pub solid-word : (cs : List Cell) (w : List ℕ) → map joined_byte cs ≡ w → list_any (λ b. nat_lt b 33) w ≡ false → raw_text cs ≡ w
solid-word cs w e h = solid-raw cs (subst (λ z. list_any (λ b. nat_lt b 33) z ≡ false) (sym e) h) ∙ e

-- the bytes of units, one after the other
pub raw-units : (a b : List (List Cell)) → raw_text (concat (a ++ b)) ≡ raw_text (concat a) ++ raw_text (concat b)
raw-units a b = ap raw_text (concat-append a b) ∙ raw_text-append (concat a) (concat b)

-- the bytes of a line: those of its cells, and its line end
pub line-bytes : (l : List ℕ) → l ≡ raw_text (line_cells l) ++ line_end_bytes (line_end l)
line-bytes l = sym (without_line_end-line_end l) ∙ ap (λ z. z ++ line_end_bytes (line_end l)) (sym (raw_text-cells (without_line_end l)))
