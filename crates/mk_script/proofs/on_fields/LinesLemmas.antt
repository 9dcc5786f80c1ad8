-- The lines of a block, as a field.
use Rattle.std.proofs.Common.{◌≡◌, ℕ, zero, suc, ◌-◌, ◌<◌, ◌≤◌, Bool, true, false, List, [], ◌∷◌, ◌++◌, length, take, refl, sym, ap, ◌∙◌, inl, inr, arith, append_assoc, append-nil}
use Rattle.std.specs.Prelude.{◌||◌, if◌then◌else◌}
use Rattle.std.specs.List.{list_all, list_any}
use Rattle.mk_script.specs.Blocks.{block_text, is_word, is_word_byte}
use Rattle.mk_script.specs.SeenFields.{is_of_no_word, IsWrittenPlain}

pub word-is : (t : List ℕ) (b : Bool) → 1 ≤ length t → b ≡ list_all is_word_byte t → b ≡ is_word t
word-is [] b some h = absurd (omega (arith, some))
word-is (x ∷ t) b some h = h

-- ---- the text of some lines

-- lines, each behind an LF
abbrev after_feeds : List (List ℕ) → List ℕ
after_feeds [] = []
after_feeds (l ∷ ls) = 10 ∷ (l ++ after_feeds ls)

block-feeds : (l : List ℕ) (ls : List (List ℕ)) → block_text (l ∷ ls) ≡ l ++ after_feeds ls
block-feeds l [] = refl
block-feeds l (k ∷ ls) = ap (λ t. l ++ 10 ∷ t) (block-feeds k ls)

-- the text of lines that are left, the first of which is the first of all or not
abbrev pub left_text : (is_first : Bool) → List (List ℕ) → List ℕ
left_text true ls = block_text ls
left_text false ls = after_feeds ls

-- one line more
pub line-more : (is_first : Bool) (left less : ℕ) (line : List ℕ) (lines rest : List (List ℕ)) (done now whole : List ℕ) → 0 < left → less ≡ left - 1 → lines ≡ line ∷ rest
    → now ≡ done ++ (if is_first then line else 10 ∷ line) → done ++ left_text is_first (take left lines) ≡ whole → now ++ left_text false (take less rest) ≡ whole
line-more b zero less line lines rest done now whole some one is put h = absurd (omega (arith, some))
line-more true (suc n) less line lines rest done now whole some one is put h =
    let k : less ≡ n = omega (arith, one) in
    ap (λ t. t ++ after_feeds (take less rest)) put
    ∙ (append_assoc done line (after_feeds (take less rest))
    ∙ (ap (λ m. done ++ (line ++ after_feeds (take m rest))) k
    ∙ (ap (λ t. done ++ t) (sym (block-feeds line (take n rest))) ∙ (ap (λ ls. done ++ block_text (take (suc n) ls)) (sym is) ∙ h))))
line-more false (suc n) less line lines rest done now whole some one is put h =
    let k : less ≡ n = omega (arith, one) in
    ap (λ t. t ++ after_feeds (take less rest)) put
    ∙ (append_assoc done (10 ∷ line) (after_feeds (take less rest))
    ∙ (ap (λ m. done ++ 10 ∷ (line ++ after_feeds (take m rest))) k ∙ (ap (λ ls. done ++ after_feeds (take (suc n) ls)) (sym is) ∙ h)))

-- no line more
pub lines-end : (is_first : Bool) (left : ℕ) (lines : List (List ℕ)) (done whole : List ℕ) → lines ≡ [] → done ++ left_text is_first (take left lines) ≡ whole → done ≡ whole
lines-end b left lines done whole none h = none-left b left done whole (ap (λ ls. done ++ left_text b (take left ls)) (sym none) ∙ h)
  where
    none-left : (b : Bool) (left : ℕ) (done whole : List ℕ) → done ++ left_text b (take left []) ≡ whole → done ≡ whole
    none-left true zero done whole k = sym (append-nil done) ∙ k
    none-left true (suc n) done whole k = sym (append-nil done) ∙ k
    none-left false zero done whole k = sym (append-nil done) ∙ k
    none-left false (suc n) done whole k = sym (append-nil done) ∙ k

pub lines-done : (is_first : Bool) (left : ℕ) (lines : List (List ℕ)) (done whole : List ℕ) → left ≡ 0 → done ++ left_text is_first (take left lines) ≡ whole → done ≡ whole
lines-done true left lines done whole none h = sym (append-nil done) ∙ (ap (λ n. done ++ left_text true (take n lines)) (sym none) ∙ h)
lines-done false left lines done whole none h = sym (append-nil done) ∙ (ap (λ n. done ++ left_text false (take n lines)) (sym none) ∙ h)

-- ---- some lines as a word

pub first-text : (lines rest : List (List ℕ)) (line : List ℕ) → lines ≡ line ∷ rest → block_text (take 1 lines) ≡ line
first-text lines rest line is = ap (λ ls. block_text (take 1 ls)) is ∙ append-nil line

pub no-text : (lines : List (List ℕ)) → lines ≡ [] → block_text (take 1 lines) ≡ []
no-text lines none = ap (λ ls. block_text (take 1 ls)) none

-- a text with an LF in it
feed-any : (l t : List ℕ) → list_any is_of_no_word (l ++ 10 ∷ t) ≡ true
feed-any [] t = refl
feed-any (b ∷ l) t = go (is_of_no_word b) (feed-any l t)
  where
    go : (c : Bool) → list_any is_of_no_word (l ++ 10 ∷ t) ≡ true → (c || list_any is_of_no_word (l ++ 10 ∷ t)) ≡ true
    go true h = refl
    go false h = h

-- two lines and more have a line feed
pub lines-feed : (count : ℕ) (lines : List (List ℕ)) → 1 < count → count ≤ length lines → IsWrittenPlain (block_text (take count lines)) (10 ∷ [])
lines-feed zero lines many enough = absurd (omega (arith, many))
lines-feed (suc zero) lines many enough = absurd (omega (arith, many))
lines-feed (suc (suc n)) [] many enough = absurd (omega (arith, enough))
lines-feed (suc (suc n)) (l ∷ []) many enough = absurd (omega (arith, enough))
lines-feed (suc (suc n)) (l ∷ k ∷ lines) many enough = inr (ap (λ t. list_any is_of_no_word t) (block-feeds l (k ∷ take n lines)) ∙ feed-any l (k ++ after_feeds (take n lines)), refl)
