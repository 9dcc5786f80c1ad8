-- Laws of ranges: they cut out their pieces and words, and raw offsets cut the raw bytes of a line.
use Rattle.std.proofs.Common.{◌≡◌, refl, sym, ap, ◌∙◌, subst, ℕ, ◌+◌, List, [], ◌∷◌, ◌++◌, map, Bool, true, false, length, take, drop, append_assoc, length-append, arith, cond}
use Rattle.std.specs.Prelude.{slice_range}
use Rattle.std.proofs.lemmas.List.{append-nil, take-append-drop}
use Rattle.std.proofs.Math.Seq.{take-append_seam, drop-append_seam}
use Rattle.std.proofs.Math.Nat.{add-sub_cancel_left}
use Rattle.mk_lines.specs.Lists.{concat}
use Rattle.mk_lines.specs.Cut.{pieces, continuation}
use Rattle.mk_lines.specs.LogicalLines.{logical_lines}
use Rattle.mk_lines.specs.Cells.{Cell, raw_text}
use Rattle.mk_lines.specs.Units.{units}
use Rattle.mk_lines.specs.Words.{Token, Gap, Word, tokens, token_words, words}
use Rattle.mk_lines.specs.Ranges.{text_at, piece_ranges, word_token_ranges, line_ranges, unit_ranges, word_ranges, raw_offset}
use Rattle.mk_lines.proofs.on_cells.CellLemmas.{raw_text-append}
use Rattle.mk_lines.proofs.on_lines.LineCut.{AtStart, line_step, line_begins, logical_lines-pieces}
use Rattle.mk_lines.proofs.on_lines.LineLemmas.{concat-logical_lines}
use Rattle.mk_lines.proofs.on_units.UnitLemmas.{concat-units}
use Rattle.mk_lines.proofs.on_units.TokenLemmas.{token_text, token_text-tokens}
use Rattle.mk_lines.specs.Spans.{Tiles}

-- what stands between two others
slice-between : {A : Type 0} (p w q : List A) → slice_range (p ++ (w ++ q)) (length p) (length p + length w) ≡ w
slice-between p w q =
    ap (λ n. take n (drop (length p) (p ++ (w ++ q)))) (add-sub_cancel_left (length p) (length w))
    ∙ (ap (take (length w)) (drop-append_seam p (w ++ q)) ∙ take-append_seam w q)

-- the ranges of pieces cut them out of a text in which they stand
piece_ranges-text : {A : Type 0} (p : List A) (ps : List (List A)) (q : List A) → map (text_at (p ++ (concat ps ++ q))) (piece_ranges (length p) ps) ≡ ps
piece_ranges-text p [] q = refl
piece_ranges-text p (x ∷ ps) q =
    let first : p ++ ((x ++ concat ps) ++ q) ≡ p ++ (x ++ (concat ps ++ q)) = ap (λ z. p ++ z) (append_assoc x (concat ps) q) in
    let rest : p ++ ((x ++ concat ps) ++ q) ≡ (p ++ x) ++ (concat ps ++ q) = first ∙ sym (append_assoc p x (concat ps ++ q)) in
    ap (λ z. z ∷ map (text_at (p ++ ((x ++ concat ps) ++ q))) (piece_ranges (length p + length x) ps))
    (ap (λ t. slice_range t (length p) (length p + length x)) first ∙ slice-between p x (concat ps ++ q))
    ∙ ap (λ z. x ∷ z)
    (ap (λ t. map (text_at t) (piece_ranges (length p + length x) ps)) rest
    ∙ (ap (λ n. map (text_at ((p ++ x) ++ (concat ps ++ q))) (piece_ranges n ps)) (sym (length-append p x)) ∙ piece_ranges-text (p ++ x) ps q))

-- the ranges of words cut them out of a text in which their tokens stand
word_token_ranges-text : {A : Type 0} (p : List A) (ts : List (Token A)) (q : List A) → map (text_at (p ++ (token_text ts ++ q))) (word_token_ranges (length p) ts) ≡ token_words ts
word_token_ranges-text p [] q = refl
word_token_ranges-text p (Gap u ∷ ts) q =
    let rest : p ++ ((u ++ token_text ts) ++ q) ≡ (p ++ u) ++ (token_text ts ++ q) = ap (λ z. p ++ z) (append_assoc u (token_text ts) q) ∙ sym (append_assoc p u (token_text ts ++ q)) in
    ap (λ t. map (text_at t) (word_token_ranges (length p + length u) ts)) rest
    ∙ (ap (λ n. map (text_at ((p ++ u) ++ (token_text ts ++ q))) (word_token_ranges n ts)) (sym (length-append p u)) ∙ word_token_ranges-text (p ++ u) ts q)
word_token_ranges-text p (Word w ∷ ts) q =
    let x = concat w in
    let first : p ++ ((x ++ token_text ts) ++ q) ≡ p ++ (x ++ (token_text ts ++ q)) = ap (λ z. p ++ z) (append_assoc x (token_text ts) q) in
    let rest : p ++ ((x ++ token_text ts) ++ q) ≡ (p ++ x) ++ (token_text ts ++ q) = first ∙ sym (append_assoc p x (token_text ts ++ q)) in
    ap (λ z. z ∷ map (text_at (p ++ ((x ++ token_text ts) ++ q))) (word_token_ranges (length p + length x) ts))
    (ap (λ t. slice_range t (length p) (length p + length x)) first ∙ slice-between p x (token_text ts ++ q))
    ∙ ap (λ z. x ∷ z)
    (ap (λ t. map (text_at t) (word_token_ranges (length p + length x) ts)) rest
    ∙ (ap (λ n. map (text_at ((p ++ x) ++ (token_text ts ++ q))) (word_token_ranges n ts)) (sym (length-append p x)) ∙ word_token_ranges-text (p ++ x) ts q))

-- the ranges of a text's lines, units and words cut them out of it
pub line_ranges-text : (t : List ℕ) → map (text_at t) (line_ranges t) ≡ logical_lines t
line_ranges-text t =
    ap (λ z. map (text_at z) (line_ranges t)) (sym (append-nil (concat (logical_lines t)) ∙ concat-logical_lines t)) ∙ piece_ranges-text [] (logical_lines t) []

pub unit_ranges-text : (t : List ℕ) → map (text_at t) (unit_ranges t) ≡ units (λ b. b) t
unit_ranges-text t =
    ap (λ z. map (text_at z) (unit_ranges t)) (sym (append-nil (concat (units (λ b. b) t)) ∙ concat-units (λ b. b) t)) ∙ piece_ranges-text [] (units (λ b. b) t) []

pub word_ranges-text : (t : List ℕ) → map (text_at t) (word_ranges t) ≡ words (λ b. b) t
word_ranges-text t =
    let ts = tokens (λ b. b) (units (λ b. b) t) in
    ap (λ z. map (text_at z) (word_ranges t)) (sym (append-nil (token_text ts) ∙ (token_text-tokens (λ b. b) (units (λ b. b) t) ∙ concat-units (λ b. b) t)))
    ∙ word_token_ranges-text [] ts []

-- ---- raw offsets

pub raw_text-split : (cs : List Cell) (n : ℕ) → raw_text cs ≡ raw_text (take n cs) ++ raw_text (drop n cs)
raw_text-split cs n = ap raw_text (sym (take-append-drop n cs)) ∙ raw_text-append (take n cs) (drop n cs)

-- a raw offset cuts raw bytes in two: those of the cells before it, and those of the other cells
pub take-raw_offset : (cs : List Cell) (n : ℕ) → take (raw_offset cs n) (raw_text cs) ≡ raw_text (take n cs)
take-raw_offset cs n = ap (take (raw_offset cs n)) (raw_text-split cs n) ∙ take-append_seam (raw_text (take n cs)) (raw_text (drop n cs))

pub drop-raw_offset : (cs : List Cell) (n : ℕ) → drop (raw_offset cs n) (raw_text cs) ≡ raw_text (drop n cs)
drop-raw_offset cs n = ap (drop (raw_offset cs n)) (raw_text-split cs n) ∙ drop-append_seam (raw_text (take n cs)) (raw_text (drop n cs))

-- the offset after the first of two lists of cells is the length of its raw bytes
pub raw_offset-append : (a b : List Cell) → raw_offset (a ++ b) (length a) ≡ length (raw_text a)
raw_offset-append a b = ap (λ z. length (raw_text z)) (take-append_seam a b)

-- ---- lines follow one another

-- no list is empty
abbrev AreFilled : {A : Type 0} → List (List A) → Type 0
AreFilled [] = Unit {0}
AreFilled ([] ∷ ps) = ⊥
AreFilled ((x ∷ p) ∷ ps) = AreFilled ps

pieces-are_filled : {A S : Type 0} (step : S → A → S) (begins : S → A → Bool) (s : S) (t : List A) → AreFilled (pieces step begins s t)
pieces-are_filled step begins s [] = tt
pieces-are_filled step begins s (x ∷ t) = go (begins s x) (pieces-are_filled step begins (step s x) t)
  where
    go : (c : Bool) → AreFilled (pieces step begins (step s x) t) → AreFilled (cond c ((x ∷ continuation step begins (step s x) t) ∷ pieces step begins (step s x) t) (pieces step begins (step s x) t))
    go true h = h
    go false h = h

-- the ranges of pieces that are not empty follow one another and cover their text
piece_ranges-tiles : {A : Type 0} (at : ℕ) (ps : List (List A)) → AreFilled ps → Tiles (piece_ranges at ps) at (at + length (concat ps))
piece_ranges-tiles at [] h = omega arith
piece_ranges-tiles at ([] ∷ ps) h = absurd h
piece_ranges-tiles at ((x ∷ p) ∷ ps) h =
    let n : at + length (x ∷ p) + length (concat ps) ≡ at + length ((x ∷ p) ++ concat ps) = omega (arith, length-append (x ∷ p) (concat ps)) in
    (refl, omega arith, subst (Tiles (piece_ranges (at + length (x ∷ p)) ps) (at + length (x ∷ p))) n (piece_ranges-tiles (at + length (x ∷ p)) ps h))

pub line_ranges-tiles : (t : List ℕ) → Tiles (line_ranges t) 0 (length t)
line_ranges-tiles t =
    let filled : AreFilled (logical_lines t) = subst AreFilled (sym (logical_lines-pieces t)) (pieces-are_filled line_step line_begins AtStart t) in
    let n : 0 + length (concat (logical_lines t)) ≡ length t = omega (arith, ap length (concat-logical_lines t)) in
    subst (Tiles (line_ranges t) 0) n (piece_ranges-tiles 0 (logical_lines t) filled)
