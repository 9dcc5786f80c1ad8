-- Lines with their line feeds are read as these lines.
use Rattle.std.proofs.Common.{◌≡◌, ◌≢◌, ℕ, zero, suc, ◌-◌, ◌<◌, Bool, true, false, cond, List, [], ◌∷◌, ◌++◌, length, length-append, slice_index, refl, sym, ap, ◌∙◌, subst, arith, append_assoc, map, take, eq-eqb, ne_eqb, lt-ltb, inr}
use Rattle.std.specs.Prelude.{◌==◌, ◌||◌, ◌&&◌, nat_lt}
use Rattle.std.specs.List.{AllByRecursion, list_any}
use Rattle.std.proofs.lemmas.List.{map-append}
use Rattle.std.proofs.lemmas.List.Folds.{list_any-append}
use Rattle.bstr.specs.Text.{lines_of, without_terminator, no_cr}
use Rattle.bstr.proofs.lemmas.LineLemmas.{EndsLine, lines-append, lines-nil, lines-one}
use Rattle.mk_lines.proofs.on_lists.BoolLemmas.{or-left_false, or-right_false}
use Rattle.mk_script.specs.Lines.{script_lines}
use Rattle.mk_script.specs.WrittenEdits.{each_ended, has_line_feed, has_return}

-- ---- bytes that a text does not have

byte-other : (b c : ℕ) → (b == c) ≡ false → b ≢ c
byte-other b c h e = let is = eq-eqb b c e in absurd (cc)

pub none-at : (x : ℕ) (t : List ℕ) (k : ℕ) → list_any (λ b. b == x) t ≡ false → k < length t → slice_index t k ≢ x
none-at x [] k h below = absurd (omega (arith, below))
none-at x (b ∷ t) zero h below = byte-other b x (or-left_false (b == x) (list_any (λ b. b == x) t) h)
none-at x (b ∷ t) (suc k) h below = none-at x t k (or-right_false (b == x) (list_any (λ b. b == x) t) h) (omega (arith, below))

none-before : (x : ℕ) (t u : List ℕ) (k : ℕ) → list_any (λ b. b == x) t ≡ false → k < length t → slice_index (t ++ u) k ≢ x
none-before x [] u k h below = absurd (omega (arith, below))
none-before x (b ∷ t) u zero h below = byte-other b x (or-left_false (b == x) (list_any (λ b. b == x) t) h)
none-before x (b ∷ t) u (suc k) h below = none-before x t u k (or-right_false (b == x) (list_any (λ b. b == x) t) h) (omega (arith, below))

-- ---- one line

-- a line is read as it is: it has no line feed, and does not end in a carriage return
pub record IsReadBack (line : List ℕ) : Type 0 where
  pub feedless : has_line_feed line ≡ false
  pub no_return : no_cr line ≡ line

-- a text that does not end in a carriage return
pub no_cr-other : (t : List ℕ) → slice_index t (length t - 1) ≢ 13 → no_cr t ≡ t
no_cr-other [] h = refl
no_cr-other (b ∷ t) h = rw (ne_eqb (slice_index (b ∷ t) (length (b ∷ t) - 1)) 13 h) (go (nat_lt 0 (length (b ∷ t))))
  where
    go : (c : Bool) → cond (c && false) (take (length (b ∷ t) - 1) (b ∷ t)) (b ∷ t) ≡ b ∷ t
    go true = refl
    go false = refl

pub read-back : (t : List ℕ) → has_line_feed t ≡ false → has_return t ≡ false → IsReadBack t
read-back [] h k = record { feedless = h; no_return = refl }
read-back (b ∷ t) h k = record { feedless = h; no_return = no_cr-other (b ∷ t) (none-at 13 (b ∷ t) (length (b ∷ t) - 1) k (omega arith)) }

at_end : (t : List ℕ) → slice_index (t ++ 10 ∷ []) (length t) ≡ 10
at_end [] = refl
at_end (b ∷ t) = at_end t

all_but_end : (t : List ℕ) → take (length t) (t ++ 10 ∷ []) ≡ t
all_but_end [] = refl
all_but_end (b ∷ t) = ap (λ (l : List ℕ). b ∷ l) (all_but_end t)

end-at : (t : List ℕ) → length (t ++ 10 ∷ []) - 1 ≡ length t
end-at t = let l = length-append t (10 ∷ []) in omega (arith, l)

line-only : (t : List ℕ) → no_cr t ≡ t → without_terminator (t ++ 10 ∷ []) ≡ t
line-only t h =
    let some : nat_lt 0 (length (t ++ 10 ∷ [])) ≡ true = let l = length-append t (10 ∷ []) in lt-ltb 0 (length (t ++ 10 ∷ [])) (omega (arith, l)) in
    rw (end-at t, some, at_end t, all_but_end t) h

one-line : (t : List ℕ) → IsReadBack t → script_lines (t ++ 10 ∷ []) ≡ t ∷ []
one-line t h =
    let long = length-append t (10 ∷ []) in
    let one = lines-one (t ++ 10 ∷ []) (omega (arith, long)) (λ k below. none-before 10 t (10 ∷ []) k h.feedless (omega (arith, below, long))) in
    ap (map without_terminator) one ∙ ap (λ (l : List ℕ). l ∷ []) (line-only t h.no_return)

-- ---- lines

pub lines-read : (ls : List (List ℕ)) → AllByRecursion IsReadBack ls → script_lines (each_ended ls) ≡ ls
lines-read [] h = ap (map without_terminator) lines-nil
lines-read (l ∷ ls) h =
    let line = l ++ 10 ∷ [] in
    let ends : EndsLine line = inr (ap (slice_index line) (end-at l) ∙ at_end l) in
    ap script_lines (sym (append_assoc l (10 ∷ []) (each_ended ls)))
    ∙ (ap (map without_terminator) (lines-append (length line) line (each_ended ls) (omega arith) ends)
    ∙ (map-append without_terminator (lines_of line) (lines_of (each_ended ls)) ∙ (ap (λ zs. zs ++ script_lines (each_ended ls)) (one-line l h.0) ∙ ap (λ zs. l ∷ zs) (lines-read ls h.1))))

pub ended-append : (ls ms : List (List ℕ)) → each_ended (ls ++ ms) ≡ each_ended ls ++ each_ended ms
ended-append [] ms = refl
ended-append (l ∷ ls) ms = ap (λ t. l ++ 10 ∷ t) (ended-append ls ms) ∙ sym (append_assoc l (10 ∷ each_ended ls) (each_ended ms))

-- the line feeds are no carriage returns
pub ended-returns : (ls : List (List ℕ)) → has_return (each_ended ls) ≡ list_any has_return ls
ended-returns [] = refl
ended-returns (l ∷ ls) = list_any-append (λ b. b == 13) l (10 ∷ each_ended ls) ∙ ap (λ q. has_return l || q) (ended-returns ls)
