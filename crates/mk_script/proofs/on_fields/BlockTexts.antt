-- The lines of the text of a block.
use Rattle.std.proofs.Common.{◌≡◌, ℕ, zero, suc, ◌+◌, ◌<◌, ◌≤◌, Bool, true, false, List, [], ◌∷◌, ◌++◌, length, take, drop, get_or, refl, sym, ap, ◌∙◌, arith, append_assoc, take-append-drop, length-drop, eqb-true, Some, None, ◌-◌}
use Rattle.std.specs.Prelude.{◌==◌, ◌||◌}
use Rattle.std.specs.List.{AllByRecursion}
use Rattle.std.specs.Str.{bytes_eq}
use Rattle.std.proofs.Math.Seq.{take-length}
use Rattle.std.proofs.lemmas.List.{take_more, take_rest}
use Rattle.std.proofs.lemmas.Slice.Eq.{bytes_eq-Decides}
use Rattle.bstr.specs.Find.{IsFirstByte, is_byte}
use Rattle.mk_lines.specs.Lists.{onto_first}
use Rattle.mk_lines.proofs.on_lists.BoolLemmas.{or-left_false, or-right_false}
use Rattle.mk_edit_language.specs.LineRuns.{before_texts, block_lines}
use Rattle.mk_edit_language.proofs.on_line_runs.BlockTexts.{block-some}
use Rattle.mk_script.specs.WrittenEdits.{each_ended, has_line, has_line_feed}
use Rattle.mk_script.proofs.on_commands.FilledLemmas.{other-line}

-- ---- the first line

-- a text without a line feed is one line
block-alone : (t : List ℕ) → has_line_feed t ≡ false → block_lines t ≡ t ∷ []
block-alone [] h = refl
block-alone (b ∷ t) h = ap (λ n. before_texts n b (block_lines t)) (or-left_false (b == 10) (has_line_feed t) h) ∙ ap (λ ls. onto_first (b ∷ []) ls) (block-alone t (or-right_false (b == 10) (has_line_feed t) h))

block-front : (t rest : List ℕ) → has_line_feed t ≡ false → block_lines (t ++ 10 ∷ rest) ≡ t ∷ block_lines rest
block-front [] rest h = refl
block-front (b ∷ t) rest h =
    ap (λ n. before_texts n b (block_lines (t ++ 10 ∷ rest))) (or-left_false (b == 10) (has_line_feed t) h)
    ∙ ap (λ ls. onto_first (b ∷ []) ls) (block-front t rest (or-right_false (b == 10) (has_line_feed t) h))

-- a front of a text in which no line feed was found has none
front-none : (t : List ℕ) (k : ℕ) → ((j : ℕ) → j < k → (get_or t j 0 == 10) ≡ true → ⊥) → has_line_feed (take k t) ≡ false
front-none [] zero h = refl
front-none [] (suc k) h = refl
front-none (b ∷ t) zero h = refl
front-none (b ∷ t) (suc k) h = go (b == 10) refl (front-none t k (λ j below. h (suc j) (omega arith)))
  where
    go : (q : Bool) → (b == 10) ≡ q → has_line_feed (take k t) ≡ false → (q || has_line_feed (take k t)) ≡ false
    go true e i = absurd (h 0 (omega arith) e)
    go false e i = i

pub line-within : (t : List ℕ) (feed : ℕ) → IsFirstByte (is_byte 10) t (Some feed) → feed < length t
line-within t feed (first, passes) = first.high

pub rest-shorter : (t : List ℕ) (feed : ℕ) → length (take (length t - (feed + 1)) (drop (feed + 1) t)) ≤ length t
rest-shorter t feed = let same = ap length (take_rest t (feed + 1)) in let long = length-drop (feed + 1) t in omega (arith, same, long)

-- the first line, by what a search for a line feed tells
line-found : (t : List ℕ) (feed : ℕ) → IsFirstByte (is_byte 10) t (Some feed) → block_lines t ≡ take feed t ∷ block_lines (drop (feed + 1) t)
line-found t feed (first, passes) =
    let ten : get_or t feed 0 ≡ 10 = eqb-true (get_or t feed 0) 10 passes in
    let line : take (feed + 1) t ≡ take feed t ++ 10 ∷ [] = take_more t feed 0 first.high ∙ ap (λ b. take feed t ++ b ∷ []) ten in
    let whole : t ≡ take feed t ++ 10 ∷ drop (feed + 1) t = sym (take-append-drop (feed + 1) t) ∙ (ap (λ l. l ++ drop (feed + 1) t) line ∙ append_assoc (take feed t) (10 ∷ []) (drop (feed + 1) t)) in
    ap block_lines whole ∙ block-front (take feed t) (drop (feed + 1) t) (front-none t feed (λ j less is. first.before j (omega arith) less is))

line-alone : (t : List ℕ) → IsFirstByte (is_byte 10) t None → block_lines t ≡ t ∷ []
line-alone t h = block-alone t (ap has_line_feed (sym (take-length t)) ∙ front-none t (length t) (λ j less is. h j (omega arith) less is))

-- ---- one line after the other

-- the first line is the word
pub word-there : (t word : List ℕ) (feed : ℕ) (whole : Bool) → IsFirstByte (is_byte 10) t (Some feed) → take feed t ≡ word → has_line (block_lines t) word ≡ whole → true ≡ whole
word-there t word feed whole found same h =
    ap (λ q. q || has_line (block_lines (drop (feed + 1) t)) word) (sym ((bytes_eq-Decides (take feed t) word).1 same)) ∙ (ap (λ ls. has_line ls word) (sym (line-found t feed found)) ∙ h)

-- it is another one
pub word-later : (t word : List ℕ) (feed : ℕ) (whole : Bool) → IsFirstByte (is_byte 10) t (Some feed) → (take feed t ≡ word → ⊥) → has_line (block_lines t) word ≡ whole
    → has_line (block_lines (take (length t - (feed + 1)) (drop (feed + 1) t))) word ≡ whole
word-later t word feed whole found other h =
    ap (λ r. has_line (block_lines r) word) (take_rest t (feed + 1))
    ∙ (ap (λ q. q || has_line (block_lines (drop (feed + 1) t)) word) (sym (other-line (take feed t) word other)) ∙ (ap (λ ls. has_line ls word) (sym (line-found t feed found)) ∙ h))

-- there is no other one
pub word-last : (t word : List ℕ) (b whole : Bool) → IsFirstByte (is_byte 10) t None → (b ≡ true → t ≡ word) → (t ≡ word → b ≡ true) → has_line (block_lines t) word ≡ whole → b ≡ whole
word-last t word b whole none is so h = go b is so ∙ (ap (λ ls. has_line ls word) (sym (line-alone t none)) ∙ h)
  where
    go : (b : Bool) → (b ≡ true → t ≡ word) → (t ≡ word → b ≡ true) → b ≡ (bytes_eq t word || false)
    go true is so = ap (λ q. q || false) (sym ((bytes_eq-Decides t word).1 (is refl)))
    go false is so = ap (λ q. q || false) (sym (other-line t word (λ same. let yes = so same in absurd (cc))))

-- ---- all lines

onto-few : (b n : ℕ) (ls : List (List ℕ)) → length ls ≤ n + 1 → length (onto_first (b ∷ []) ls) ≤ suc n + 1
onto-few b n [] h = omega arith
onto-few b n (l ∷ ls) h = omega (arith, h)

-- a text has at most one line more than bytes
pub block-few : (t : List ℕ) → length (block_lines t) ≤ length t + 1
block-few [] = omega arith
block-few (b ∷ t) = go (b == 10) (block-few t)
  where
    go : (n : Bool) → length (block_lines t) ≤ length t + 1 → length (before_texts n b (block_lines t)) ≤ suc (length t) + 1
    go true h = omega (arith, h)
    go false h = onto-few b (length t) (block_lines t) h

-- no line of a text has a line feed
pub block-feedless : (t : List ℕ) → AllByRecursion (λ l. has_line_feed l ≡ false) (block_lines t)
block-feedless [] = (refl, tt)
block-feedless (b ∷ t) = go (b == 10) refl (block_lines t) (block-feedless t)
  where
    go : (n : Bool) → (b == 10) ≡ n → (ls : List (List ℕ)) → AllByRecursion (λ l. has_line_feed l ≡ false) ls → AllByRecursion (λ l. has_line_feed l ≡ false) (before_texts n b ls)
    go true e ls h = (refl, h)
    go false e [] h = (ap (λ q. q || false) e, tt)
    go false e (l ∷ ls) h = (ap (λ q. q || has_line_feed l) e ∙ h.0, h.1)

-- lines with their line feeds
pub block-ended : (t : List ℕ) → each_ended (block_lines t) ≡ t ++ 10 ∷ []
block-ended [] = refl
block-ended (b ∷ t) = go (b == 10) refl (block_lines t) (block-some t) (block-ended t)
  where
    go : (n : Bool) → (b == 10) ≡ n → (ls : List (List ℕ)) → (ls ≡ [] → ⊥) → each_ended ls ≡ t ++ 10 ∷ [] → each_ended (before_texts n b ls) ≡ b ∷ (t ++ 10 ∷ [])
    go true e ls some h = ap (λ (x : ℕ). x ∷ each_ended ls) (sym (eqb-true b 10 e)) ∙ ap (λ z. b ∷ z) h
    go false e [] some h = absurd (some refl)
    go false e (l ∷ ls) some h = ap (λ z. b ∷ z) h
