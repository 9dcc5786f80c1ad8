-- Lines exchanged at rising indices.
use Rattle.std.proofs.Common.{◌≡◌, refl, sym, ap, ◌∙◌, arith, ℕ, zero, suc, ◌+◌, ◌≤◌, Bool, true, false, List, [], ◌∷◌, ◌++◌, length, length-append, take, drop}
use Rattle.mk_lines.specs.Limits.{max_text}
use Rattle.mk_tree.specs.LocatedLines.{LocatedLine, size_of}
use Rattle.mk_patch.specs.Moves.{Move, Exchange, IsPlain, after_moves, held_by, taken_by}
use Rattle.mk_patch.proofs.on_moves.PlainMoves.{fit-none, fit-plain_first}
use Rattle.mk_patch.proofs.on_moves.ShapeLemmas.{LeadTo, exchanged-between, plain-between, within-between}

-- The exchanges of the chosen lines, the first line being at an index: each of them by the line that stands at its index after
-- them.
abbrev pub exchanges : (at : ℕ) → (chosen : List Bool) → (after : List LocatedLine) → List Move
exchanges at (true ∷ cs) (l ∷ ls) = Exchange at l ∷ exchanges (at + 1) cs ls
exchanges at (false ∷ cs) (l ∷ ls) = exchanges (at + 1) cs ls
exchanges at cs ls = []

-- Two lists of lines, each as long as `chosen`, are the same except for the chosen lines, which are of no conditional.
abbrev pub DifferWhereChosen : (chosen : List Bool) → (before after : List LocatedLine) → Type 0
DifferWhereChosen [] [] [] = Unit {0}
DifferWhereChosen (true ∷ cs) (old ∷ olds) (new ∷ news) = IsPlain old × IsPlain new × DifferWhereChosen cs olds news
DifferWhereChosen (false ∷ cs) (old ∷ olds) (new ∷ news) = (old ≡ new) × DifferWhereChosen cs olds news
DifferWhereChosen cs olds news = ⊥

-- the first lines as they are after the exchanges, and then the others as they were before, have at most 16,777,216 bytes,
-- wherever the lists are parted
abbrev StayWithin : (above before after : List LocatedLine) → Type 0
StayWithin above before after = (i : ℕ) → i ≤ length before → size_of (above ++ (take i after ++ drop i before)) ≤ max_text

pub append-one : {X : Type 0} (xs : List X) (y : X) (ys : List X) → (xs ++ y ∷ []) ++ ys ≡ xs ++ y ∷ ys
append-one [] y ys = refl
append-one (x ∷ xs) y ys = ap (λ z. x ∷ z) (append-one xs y ys)

within-next : (above : List LocatedLine) (old new : LocatedLine) (olds news : List LocatedLine) → StayWithin above (old ∷ olds) (new ∷ news) → StayWithin (above ++ new ∷ []) olds news
within-next above old new olds news w i h = rw (append-one above new (take i news ++ drop i olds)) (w (suc i) (omega (arith, h)))

-- The exchanges lead from the lines before them to those after, below lines that stay.
exchanges-lead_below : (above : List LocatedLine) (cs : List Bool) (before after : List LocatedLine) (at : ℕ) → at ≡ length above → DifferWhereChosen cs before after → StayWithin above before after
    → LeadTo (exchanges at cs after) (above ++ before) (above ++ after)
exchanges-lead_below above [] [] [] at e d w = record { fit = fit-none _; lead = refl }
exchanges-lead_below above [] [] (new ∷ news) at e d w = absurd d
exchanges-lead_below above [] (old ∷ olds) news at e d w = absurd d
exchanges-lead_below above (true ∷ cs) [] news at e d w = absurd d
exchanges-lead_below above (true ∷ cs) (old ∷ olds) [] at e d w = absurd d
exchanges-lead_below above (false ∷ cs) [] news at e d w = absurd d
exchanges-lead_below above (false ∷ cs) (old ∷ olds) [] at e d w = absurd d
exchanges-lead_below above (true ∷ cs) (old ∷ olds) (new ∷ news) at e d w =
    let x = exchanged-between above olds old new at e in
    let n : at + 1 ≡ length (above ++ new ∷ []) = omega (arith, length-append above (new ∷ []), e) in
    let r = exchanges-lead_below (above ++ new ∷ []) cs olds news (at + 1) n d.2 (within-next above old new olds news w) in
    let few : size_of (above ++ new ∷ olds) ≤ max_text = w (suc zero) (omega arith) in
    record {
      fit = fit-plain_first (Exchange at new) (exchanges (at + 1) cs news) (above ++ old ∷ olds) (within-between above olds old at e, rw x few) (plain-between above olds old at e d.0, d.1) (rw x (rw (append-one above new olds) at r.fit));
      lead = ap (after_moves (exchanges (at + 1) cs news)) (x ∙ sym (append-one above new olds)) ∙ (r.lead ∙ append-one above new news);
    }
exchanges-lead_below above (false ∷ cs) (old ∷ olds) (new ∷ news) at e d w =
    let n : at + 1 ≡ length (above ++ new ∷ []) = omega (arith, length-append above (new ∷ []), e) in
    let r = exchanges-lead_below (above ++ new ∷ []) cs olds news (at + 1) n d.1 (within-next above old new olds news w) in
    rw d.0 (record {
      fit = rw (append-one above new olds) at r.fit;
      lead = ap (after_moves (exchanges (at + 1) cs news)) (sym (append-one above new olds)) ∙ (r.lead ∙ append-one above new news);
    })

-- The exchanges in all lines lead to the lines with each chosen one exchanged.
pub exchanges-lead : (cs : List Bool) (before after : List LocatedLine) → DifferWhereChosen cs before after → StayWithin [] before after → LeadTo (exchanges 0 cs after) before after
exchanges-lead cs before after d w = exchanges-lead_below [] cs before after 0 refl d w

-- ---- how many lines they hold and take out

-- how many lines are chosen
abbrev pub how_many : List Bool → ℕ
how_many [] = 0
how_many (true ∷ cs) = 1 + how_many cs
how_many (false ∷ cs) = how_many cs

exchanges-number : (at : ℕ) (cs : List Bool) (before after : List LocatedLine) → DifferWhereChosen cs before after → length (exchanges at cs after) ≡ how_many cs
exchanges-number at [] [] [] d = refl
exchanges-number at [] [] (new ∷ news) d = absurd d
exchanges-number at [] (old ∷ olds) news d = absurd d
exchanges-number at (true ∷ cs) [] news d = absurd d
exchanges-number at (true ∷ cs) (old ∷ olds) [] d = absurd d
exchanges-number at (false ∷ cs) [] news d = absurd d
exchanges-number at (false ∷ cs) (old ∷ olds) [] d = absurd d
exchanges-number at (true ∷ cs) (old ∷ olds) (new ∷ news) d = omega (arith, exchanges-number (at + 1) cs olds news d.2)
exchanges-number at (false ∷ cs) (old ∷ olds) (new ∷ news) d = exchanges-number (at + 1) cs olds news d.1

exchanges-held : (at : ℕ) (cs : List Bool) (after : List LocatedLine) → held_by (exchanges at cs after) ≡ length (exchanges at cs after)
exchanges-held at [] after = refl
exchanges-held at (true ∷ cs) [] = refl
exchanges-held at (false ∷ cs) [] = refl
exchanges-held at (true ∷ cs) (l ∷ ls) = omega (arith, exchanges-held (at + 1) cs ls)
exchanges-held at (false ∷ cs) (l ∷ ls) = exchanges-held (at + 1) cs ls

exchanges-taken : (at : ℕ) (cs : List Bool) (after : List LocatedLine) → taken_by (exchanges at cs after) ≡ length (exchanges at cs after)
exchanges-taken at [] after = refl
exchanges-taken at (true ∷ cs) [] = refl
exchanges-taken at (false ∷ cs) [] = refl
exchanges-taken at (true ∷ cs) (l ∷ ls) = omega (arith, exchanges-taken (at + 1) cs ls)
exchanges-taken at (false ∷ cs) (l ∷ ls) = exchanges-taken (at + 1) cs ls

-- the exchanges hold as many lines as are chosen, and take out as many
pub exchanges-held_chosen : (at : ℕ) (cs : List Bool) (before after : List LocatedLine) → DifferWhereChosen cs before after → held_by (exchanges at cs after) ≡ how_many cs
exchanges-held_chosen at cs before after d = exchanges-held at cs after ∙ exchanges-number at cs before after d

pub exchanges-taken_chosen : (at : ℕ) (cs : List Bool) (before after : List LocatedLine) → DifferWhereChosen cs before after → taken_by (exchanges at cs after) ≡ how_many cs
exchanges-taken_chosen at cs before after d = exchanges-taken at cs after ∙ exchanges-number at cs before after d

-- ---- when the sizes stay within the limit

-- each of some lines has at most as many bytes as the line of the other list at its index
abbrev pub AreNoLonger : List LocatedLine → List LocatedLine → Type 0
AreNoLonger [] [] = Unit {0}
AreNoLonger (l ∷ ls) (k ∷ ks) = (length l.bytes ≤ length k.bytes) × AreNoLonger ls ks
AreNoLonger ls ks = ⊥

grown : (before after : List LocatedLine) (i : ℕ) → AreNoLonger before after → size_of (take i after ++ drop i before) ≤ size_of after
grown [] [] zero n = omega arith
grown [] [] (suc i) n = omega arith
grown [] (k ∷ ks) i n = absurd n
grown (l ∷ ls) [] i n = absurd n
grown (l ∷ ls) (k ∷ ks) zero n = omega (arith, n.0, grown ls ks zero n.1)
grown (l ∷ ls) (k ∷ ks) (suc i) n = omega (arith, grown ls ks i n.1)

shrunk : (before after : List LocatedLine) (i : ℕ) → AreNoLonger after before → size_of (take i after ++ drop i before) ≤ size_of before
shrunk [] [] zero n = omega arith
shrunk [] [] (suc i) n = omega arith
shrunk [] (k ∷ ks) i n = absurd n
shrunk (l ∷ ls) [] i n = absurd n
shrunk (l ∷ ls) (k ∷ ks) zero n = omega arith
shrunk (l ∷ ls) (k ∷ ks) (suc i) n = omega (arith, n.0, shrunk ls ks i n.1)

-- if no line gets shorter, it is enough that the lines after the exchanges are within the limit
pub within-grown : (before after : List LocatedLine) → AreNoLonger before after → size_of after ≤ max_text → StayWithin [] before after
within-grown before after n few i h = omega (arith, grown before after i n, few)

-- if no line gets longer, it is enough that the lines before the exchanges are within the limit
pub within-shrunk : (before after : List LocatedLine) → AreNoLonger after before → size_of before ≤ max_text → StayWithin [] before after
within-shrunk before after n few i h = omega (arith, shrunk before after i n, few)
