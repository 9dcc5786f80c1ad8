-- Lines in which a text, wherever it stood or at some of these places, becomes another: by the pieces of the line.
use Rattle.std.proofs.Common.{◌≡◌, refl, sym, ap, ◌∙◌, subst, ℕ, List, [], ◌∷◌, ◌++◌, append_assoc}
use Rattle.std.specs.List.{flat_map, join_by}
use Rattle.std.proofs.lemmas.List.{append-nil}
use Rattle.mk_lines.specs.Cells.{raw_text}
use Rattle.mk_lines.specs.Pieces.{Piece, Keep, Replace, old_bytes, new_bytes}
use Rattle.mk_session.specs.Statement.{Replaces}

-- ---- parts of a line

-- parts of a line, each with a text behind it
abbrev joined : (text : List ℕ) → (parts : List (List ℕ)) → List ℕ
joined w [] = []
joined w (p ∷ ps) = p ++ (w ++ joined w ps)

-- the same parts, and the rest of the line as the last of them
later-parts : (w : List ℕ) (ps : List (List ℕ)) (rest : List ℕ) → flat_map (λ y. w ++ y) (ps ++ rest ∷ []) ≡ w ++ (joined w ps ++ rest)
later-parts w [] rest = append-nil (w ++ rest)
later-parts w (p ∷ ps) rest = ap (λ z. (w ++ p) ++ z) (later-parts w ps rest) ∙ simp append_assoc

all-parts : (w : List ℕ) (ps : List (List ℕ)) (rest : List ℕ) → joined w ps ++ rest ≡ join_by (λ p. p) w (ps ++ rest ∷ [])
all-parts w [] rest = sym (append-nil rest)
all-parts w (p ∷ ps) rest = append_assoc p (w ++ joined w ps) rest ∙ ap (λ z. p ++ z) (append_assoc w (joined w ps) rest ∙ sym (later-parts w ps rest))

-- ---- pieces

-- each piece that is replaced is the old text, and becomes the new one
abbrev pub AreReplaced : (old new : List ℕ) → List Piece → Type 0
AreReplaced o n [] = Unit {0}
AreReplaced o n (Keep cs ∷ ps) = AreReplaced o n ps
AreReplaced o n (Replace cs v ∷ ps) = (raw_text cs ≡ o) × (v ≡ n) × AreReplaced o n ps

pub replaced-append : (o n : List ℕ) (ps qs : List Piece) → AreReplaced o n ps → AreReplaced o n qs → AreReplaced o n (ps ++ qs)
replaced-append o n [] qs h k = k
replaced-append o n (Keep cs ∷ ps) qs h k = replaced-append o n ps qs h k
replaced-append o n (Replace cs v ∷ ps) qs h k = (h.0, h.1, replaced-append o n ps qs h.2 k)

-- two texts that are the same but for these
record AreCut (o n old new : List ℕ) : Type 0 where
  parts : List (List ℕ)
  rest : List ℕ
  old_is : old ≡ joined o parts ++ rest
  new_is : new ≡ joined n parts ++ rest

-- a text put before parts, and an old and a new one put before them
front-cut : (o n x : List ℕ) (ps : List (List ℕ)) (rest old new : List ℕ) → old ≡ joined o ps ++ rest → new ≡ joined n ps ++ rest → AreCut o n (x ++ old) (x ++ new)
front-cut o n x [] rest old new h k = record { parts = []; rest = x ++ rest; old_is = ap (λ z. x ++ z) h; new_is = ap (λ z. x ++ z) k }
front-cut o n x (p ∷ ps) rest old new h k = record { parts = (x ++ p) ∷ ps; rest = rest; old_is = ap (λ z. x ++ z) h ∙ apart o; new_is = ap (λ z. x ++ z) k ∙ apart n }
  where
    apart : (w : List ℕ) → x ++ ((p ++ (w ++ joined w ps)) ++ rest) ≡ ((x ++ p) ++ (w ++ joined w ps)) ++ rest
    apart w = simp append_assoc

text-cut : (o n old new : List ℕ) → AreCut o n old new → AreCut o n (o ++ old) (n ++ new)
text-cut o n old new c = record {
  parts = [] ∷ c.parts;
  rest = c.rest;
  old_is = ap (λ z. o ++ z) c.old_is ∙ sym (append_assoc o (joined o c.parts) c.rest);
  new_is = ap (λ z. n ++ z) c.new_is ∙ sym (append_assoc n (joined n c.parts) c.rest);
}

pieces-cut : (o n : List ℕ) (ps : List Piece) → AreReplaced o n ps → AreCut o n (old_bytes ps) (new_bytes ps)
pieces-cut o n [] h = record { parts = []; rest = []; old_is = refl; new_is = refl }
pieces-cut o n (Keep cs ∷ ps) h = let c = pieces-cut o n ps h in front-cut o n (raw_text cs) c.parts c.rest (old_bytes ps) (new_bytes ps) c.old_is c.new_is
pieces-cut o n (Replace cs v ∷ ps) h =
    subst (λ z. AreCut o n (z ++ old_bytes ps) (v ++ new_bytes ps)) (sym h.0)
    (subst (λ z. AreCut o n (o ++ old_bytes ps) (z ++ new_bytes ps)) (sym h.1) (text-cut o n (old_bytes ps) (new_bytes ps) (pieces-cut o n ps h.2)))

-- a line that is such pieces and a rest
pub pieces-replace : (o n : List ℕ) (ps : List Piece) (rest l m : List ℕ) → AreReplaced o n ps → l ≡ old_bytes ps ++ rest → m ≡ new_bytes ps ++ rest → Replaces o n l m
pieces-replace o n ps end l m h old new =
    let C = pieces-cut o n ps h in
    let rest = C.rest ++ end in (
      C.parts ++ rest ∷ [],
      old ∙ (ap (λ z. z ++ end) C.old_is ∙ (append_assoc (joined o C.parts) C.rest end ∙ all-parts o C.parts rest)),
      new ∙ (ap (λ z. z ++ end) C.new_is ∙ (append_assoc (joined n C.parts) C.rest end ∙ all-parts n C.parts rest)),
    )
