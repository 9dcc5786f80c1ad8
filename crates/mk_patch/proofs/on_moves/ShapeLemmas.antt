-- What the shapes of patches lead to: a line put in; a line put in after a last line that gets another line end; a line
-- exchanged; and a run of lines taken out.
use Rattle.std.proofs.Common.{◌≡◌, refl, sym, ap, ◌∙◌, arith, ℕ, zero, suc, ◌+◌, ◌<◌, ◌≤◌, List, [], ◌∷◌, ◌++◌, length, length-append, take, drop, replicate, Some}
use Rattle.std.proofs.Math.Seq.{take-append_seam, drop-append_seam, drop-append-add}
use Rattle.mk_lines.specs.Limits.{max_text}
use Rattle.mk_lines.specs.PhysicalLines.{without_line_end}
use Rattle.mk_tree.specs.LocatedLines.{LocatedLine, bytes_of_line, last_line, size_of, with_last_bytes}
use Rattle.mk_tree.proofs.Indices.{get_middle, size_of-append}
use Rattle.mk_patch.specs.Moves.{Move, PutIn, TakeOut, Exchange, SwapEnd, FitsMove, FitMoves, IsPlain, after_moves, exchanged, held_by, taken_by}
use Rattle.mk_patch.proofs.on_moves.MoveLemmas.{fit-append}
use Rattle.mk_patch.proofs.on_moves.PlainMoves.{IsPlainAt, fit-none, fit-plain_first}

-- moves fit some lines and lead to others
pub record LeadTo (ms : List Move) (before after : List LocatedLine) : Type 0 where
  pub fit : FitMoves ms before
  pub lead : after_moves ms before ≡ after

-- equal moves fit equal lines and lead to equal lines
pub same-lead : (ms ns : List Move) (a b c d : List LocatedLine) → ms ≡ ns → a ≡ b → c ≡ d → LeadTo ms a c → LeadTo ns b d
same-lead ms ns a b c d m e f h = rw (← m, ← e, ← f) h

-- lines of no conditional
abbrev pub ArePlain : List LocatedLine → Type 0
ArePlain [] = Unit {0}
ArePlain (l ∷ ls) = IsPlain l × ArePlain ls

-- ---- an index between two runs of lines

pub put-between : (above below : List LocatedLine) (l : LocatedLine) (at : ℕ) → at ≡ length above → take at (above ++ below) ++ l ∷ drop at (above ++ below) ≡ above ++ l ∷ below
put-between above below l at e =
    rw e (ap (λ z. z ++ l ∷ drop (length above) (above ++ below)) (take-append_seam above below) ∙ ap (λ z. above ++ l ∷ z) (drop-append_seam above below))

pub taken-between : (above below : List LocatedLine) (l : LocatedLine) (at : ℕ) → at ≡ length above → take at (above ++ l ∷ below) ++ drop (at + 1) (above ++ l ∷ below) ≡ above ++ below
taken-between above below l at e =
    rw e (ap (λ z. z ++ drop (length above + 1) (above ++ l ∷ below)) (take-append_seam above (l ∷ below)) ∙ ap (λ z. above ++ z) (drop-append-add above (l ∷ below) 1))

pub exchanged-between : (above below : List LocatedLine) (old new : LocatedLine) (at : ℕ) → at ≡ length above → exchanged at new (above ++ old ∷ below) ≡ above ++ new ∷ below
exchanged-between above below old new at e =
    rw e (ap (λ z. z ++ new ∷ drop (length above + 1) (above ++ old ∷ below)) (take-append_seam above (old ∷ below)) ∙ ap (λ z. above ++ new ∷ z) (drop-append-add above (old ∷ below) 1))

pub plain-between : (above below : List LocatedLine) (l : LocatedLine) (at : ℕ) → at ≡ length above → IsPlain l → IsPlainAt at (above ++ l ∷ below)
plain-between above below l at e p = rw (get_middle above below l at e) p

pub within-between : (above below : List LocatedLine) (l : LocatedLine) (at : ℕ) → at ≡ length above → at < length (above ++ l ∷ below)
within-between above below l at e = omega (arith, length-append above (l ∷ below), e)

-- ---- a line put in, and one exchanged

pub put_in-leads : (above below : List LocatedLine) (l : LocatedLine) (at : ℕ) → at ≡ length above → IsPlain l → size_of (above ++ l ∷ below) ≤ max_text → LeadTo (PutIn at l ∷ []) (above ++ below) (above ++ l ∷ below)
put_in-leads above below l at e p few =
    let z = size_of-append above below in
    let w = size_of-append above (l ∷ below) in
    record { fit = fit-plain_first (PutIn at l) [] (above ++ below) (omega (arith, length-append above below, e), omega (arith, z, w, few)) p (fit-none _); lead = put-between above below l at e }

pub exchange-leads : (above below : List LocatedLine) (old new : LocatedLine) (at : ℕ) → at ≡ length above → IsPlain old → IsPlain new → size_of (above ++ new ∷ below) ≤ max_text
    → LeadTo (Exchange at new ∷ []) (above ++ old ∷ below) (above ++ new ∷ below)
exchange-leads above below old new at e p q few =
    let x = exchanged-between above below old new at e in
    record {
      fit = fit-plain_first (Exchange at new) [] (above ++ old ∷ below) (within-between above below old at e, rw x few) (plain-between above below old at e p, q) (fit-none _);
      lead = x;
    }

-- ---- a last line with another line end

last-ended : (above : List LocatedLine) (last : LocatedLine) (b : List ℕ) → with_last_bytes b (above ++ last ∷ []) ≡ above ++ record last { bytes = b } ∷ []
last-ended [] last b = refl
last-ended (x ∷ []) last b = refl
last-ended (x ∷ y ∷ above) last b = ap (λ z. x ∷ z) (last-ended (y ∷ above) last b)

last-of : (above : List LocatedLine) (last : LocatedLine) → last_line (above ++ last ∷ []) ≡ Some last
last-of [] last = refl
last-of (x ∷ []) last = refl
last-of (x ∷ y ∷ above) last = last-of (y ∷ above) last

swap_end-leads : (above : List LocatedLine) (last : LocatedLine) (b : List ℕ) → 0 < length b → without_line_end b ≡ without_line_end last.bytes → size_of (above ++ record last { bytes = b } ∷ []) ≤ max_text
    → LeadTo (SwapEnd b ∷ []) (above ++ last ∷ []) (above ++ record last { bytes = b } ∷ [])
swap_end-leads above last b some same few =
    let x = last-ended above last b in
    let f : FitsMove (SwapEnd b) (above ++ last ∷ []) =
    (omega (arith, length-append above (last ∷ [])), some, same ∙ ap (λ z. without_line_end (bytes_of_line z)) (sym (last-of above last)), rw x few) in
    record { fit = fit-plain_first (SwapEnd b) [] (above ++ last ∷ []) f tt (fit-none _); lead = x }

-- after a last line with another line end, a line is put in at the end
pub ended-put_in-leads : (above : List LocatedLine) (last l : LocatedLine) (b : List ℕ) (at : ℕ) → at ≡ length above + 1 → 0 < length b → without_line_end b ≡ without_line_end last.bytes → IsPlain l
    → size_of (above ++ record last { bytes = b } ∷ l ∷ []) ≤ max_text → LeadTo (SwapEnd b ∷ PutIn at l ∷ []) (above ++ last ∷ []) (above ++ record last { bytes = b } ∷ l ∷ [])
ended-put_in-leads above last l b at e some same p few =
    let ended : LocatedLine = record last { bytes = b } in
    let z = size_of-append above (ended ∷ l ∷ []) in
    let w = size_of-append above (ended ∷ []) in
    let a = append-one above ended (l ∷ []) in
    let s = swap_end-leads above last b some same (omega (arith, z, w, few)) in
    let q = put_in-leads (above ++ ended ∷ []) [] l at (omega (arith, length-append above (ended ∷ []), e)) p (rw a few) in
    let n = append-none (above ++ ended ∷ []) in
    record { fit = fit-append (SwapEnd b ∷ []) (PutIn at l ∷ []) (above ++ last ∷ []) s.fit (rw s.lead (rw n at q.fit)); lead = rw s.lead (rw n at q.lead) ∙ a }
  where
    append-one : {X : Type 0} (xs : List X) (y : X) (ys : List X) → (xs ++ y ∷ []) ++ ys ≡ xs ++ y ∷ ys
    append-one [] y ys = refl
    append-one (x ∷ xs) y ys = ap (λ z. x ∷ z) (append-one xs y ys)

    append-none : {X : Type 0} (xs : List X) → xs ++ [] ≡ xs
    append-none [] = refl
    append-none (x ∷ xs) = ap (λ z. x ∷ z) (append-none xs)

-- ---- a run of lines taken out, one after the other at one index

pub run-leads : (above run below : List LocatedLine) (at : ℕ) → at ≡ length above → ArePlain run → LeadTo (replicate (length run) (TakeOut at)) (above ++ (run ++ below)) (above ++ below)
run-leads above [] below at e p = record { fit = fit-none _; lead = refl }
run-leads above (l ∷ run) below at e p =
    let x = taken-between above (run ++ below) l at e in
    let r = run-leads above run below at e p.1 in
    record {
      fit = fit-plain_first (TakeOut at) (replicate (length run) (TakeOut at)) (above ++ (l ∷ run ++ below)) (within-between above (run ++ below) l at e) (plain-between above (run ++ below) l at e p.0) (rw x r.fit);
      lead = ap (after_moves (replicate (length run) (TakeOut at))) x ∙ r.lead;
    }

pub run-held : (n at : ℕ) → held_by (replicate n (TakeOut at)) ≡ 0
run-held zero at = refl
run-held (suc n) at = omega (arith, run-held n at)

pub run-taken : (n at : ℕ) → taken_by (replicate n (TakeOut at)) ≡ n
run-taken zero at = refl
run-taken (suc n) at = omega (arith, run-taken n at)
