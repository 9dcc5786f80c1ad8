-- The words and the texts of a value that a change replaces: the code's list of places is that of the value's pieces.
use Rattle.std.proofs.Common.{◌≡◌, refl, sym, ap, ◌∙◌, arith, ℕ, zero, suc, ◌+◌, ◌-◌, ◌≤◌, max, Bool, true, false, cond, ◌&&◌, List, [], ◌∷◌, ◌++◌, map, take, drop, length, length-append, append_assoc, None}
use Rattle.std.specs.Str.{bytes_eq}
use Rattle.std.specs.Prelude.{slice_range, if◌then◌else◌, nat_le}
use Rattle.std.proofs.lemmas.Bool.{le-leb}
use Rattle.std.proofs.lemmas.Grind.{common_steps}
use Rattle.std.proofs.lemmas.List.{length-map, map-append, length-take-le, take-append-drop}
use Rattle.std.proofs.lemmas.Slice.Eq.{bytes_eq-Decides}
use Rattle.std.proofs.Math.Seq.{drop-append_seam}
use Rattle.memchr.specs.Find.{matches_from, match_len, occurs_at}
use Rattle.mk_lines.specs.Lists.{concat}
use Rattle.mk_lines.specs.Cells.{Cell, joined_byte, joined_text}
use Rattle.mk_lines.specs.Pieces.{Keep, Replace, old_cells}
use Rattle.mk_lines.specs.Ranges.{text_at, word_token_ranges}
use Rattle.mk_lines.specs.Words.{Token, Gap, Word}
use Rattle.mk_lines.proofs.on_units.TokenLemmas.{token_text}
use Rattle.mk_edit_language.specs.LineChanges.{begins_with, substituted}
use Rattle.mk_edit_language.specs.WordPieces.{is_word_of, renamed_tokens}
use Rattle.mk_edit_parts.specs.LineChangePlaces.{word_places, text_places}
use Rattle.mk_edit_parts.specs.RenamedRanges.{span}
use Rattle.mk_edit_parts.proofs.on_prerequisites.WordRangeLemmas.{slice-at}
use Rattle.mk_edit_parts.proofs.on_line_changes.PiecePlaces.{places, AllBecome}

-- ---- words

-- the words among some tokens
pub words-places : (cs b : List Cell) (ts : List (Token Cell)) (a : List Cell) (o n : List ℕ) (start at : ℕ) → cs ≡ b ++ (token_text ts ++ a) → start + at ≡ length b
    → word_places (joined_text cs) start None o (word_token_ranges at ts) ≡ places (start + at) (renamed_tokens o n ts)
words-places cs b [] a o n start at h k = refl
words-places cs b (Gap u ∷ ts) a o n start at h k =
    let e : cs ≡ (b ++ u) ++ (token_text ts ++ a) = h ∙ simp append_assoc in
    let m : start + (at + length u) ≡ length (b ++ u) = omega (arith, k, length-append b u) in
    let s : start + (at + length u) ≡ start + at + length u = omega arith in
    words-places cs (b ++ u) ts a o n start (at + length u) e m ∙ ap (λ z. places z (renamed_tokens o n ts)) s
words-places cs b (Word w ∷ ts) a o n start at h k =
    let W = concat w in
    let f : cs ≡ b ++ (W ++ (token_text ts ++ a)) = h ∙ simp append_assoc in
    let e : cs ≡ (b ++ W) ++ (token_text ts ++ a) = h ∙ simp append_assoc in
    let m : start + (at + length W) ≡ length (b ++ W) = omega (arith, k, length-append b W) in
    let s : start + (at + length W) ≡ start + at + length W = omega arith in
    let J = map joined_byte in
    let joined : joined_text cs ≡ J b ++ (J W ++ J (token_text ts ++ a)) = ap J f ∙ (map-append joined_byte b (W ++ (token_text ts ++ a)) ∙ ap (λ z. J b ++ z) (map-append joined_byte W (token_text ts ++ a))) in
    let p : start + at ≡ length (J b) = k ∙ sym (length-map b joined_byte) in
    let q : start + (at + length W) ≡ length (J b) + length (J W) = omega (arith, p, length-map W joined_byte) in
    let text : text_at (joined_text cs) (span (start + at) (start + (at + length W))) ≡ J W =
    ap (λ t. slice_range t (start + at) (start + (at + length W))) joined ∙ slice-at (start + at) (start + (at + length W)) (J b) (J W) (J (token_text ts ++ a)) p q in
    let rest = words-places cs (b ++ W) ts a o n start (at + length W) e m ∙ ap (λ z. places z (renamed_tokens o n ts)) s in
    go (is_word_of o w) (ap (λ t. bytes_eq t o) text) s rest
  where
    go : (c : Bool) → bytes_eq (text_at (joined_text cs) (span (start + at) (start + (at + length (concat w))))) o ≡ c → start + (at + length (concat w)) ≡ start + at + length (concat w)
        → word_places (joined_text cs) start None o (word_token_ranges (at + length (concat w)) ts) ≡ places (start + at + length (concat w)) (renamed_tokens o n ts)
        → word_places (joined_text cs) start None o (word_token_ranges at (Word w ∷ ts)) ≡ places (start + at) ((if c then Replace (concat w) n else Keep (concat w)) ∷ renamed_tokens o n ts)
    go true t s r =
        let S = start + at in
        let E = start + (at + length (concat w)) in
        let R = word_places (joined_text cs) start None o (word_token_ranges (at + length (concat w)) ts) in
        ap (λ b. if b then span S E ∷ R else R) t ∙ (ap (λ z. span S z ∷ R) s ∙ ap (λ z. span S (S + length (concat w)) ∷ z) r)
    go false t s r =
        let S = start + at in
        let E = start + (at + length (concat w)) in
        let R = word_places (joined_text cs) start None o (word_token_ranges (at + length (concat w)) ts) in
        ap (λ b. if b then span S E ∷ R else R) t ∙ r

pub words-become : (o n : List ℕ) (ts : List (Token Cell)) → AllBecome n (renamed_tokens o n ts)
words-become o n [] = tt
words-become o n (Gap u ∷ ts) = words-become o n ts
words-become o n (Word w ∷ ts) = go (is_word_of o w) (words-become o n ts)
  where
    go : (c : Bool) → AllBecome n (renamed_tokens o n ts) → AllBecome n ((if c then Replace (concat w) n else Keep (concat w)) ∷ renamed_tokens o n ts)
    go true h = (refl, h)
    go false h = h

-- ---- texts

pub texts-become : (f n : List ℕ) (k : ℕ) (cs : List Cell) → AllBecome n (substituted f n k cs)
texts-become f n k [] = tt
texts-become f n (suc k) (c ∷ cs) = texts-become f n k cs
texts-become f n zero (c ∷ cs) = go (begins_with f (c ∷ cs)) (texts-become f n (length f - 1) cs) (texts-become f n zero cs)
  where
    go : (b : Bool) → AllBecome n (substituted f n (length f - 1) cs) → AllBecome n (substituted f n zero cs)
        → AllBecome n (cond b (Replace (take (length f) (c ∷ cs)) n ∷ substituted f n (length f - 1) cs) (Keep (c ∷ []) ∷ substituted f n zero cs))
    go true h k = (refl, h)
    go false h k = k

-- a text that begins some cells is no longer than they
begins-short : (f : List ℕ) (cs : List Cell) → begins_with f cs ≡ true → length f ≤ length cs
begins-short f cs h =
    let e : take (length f) (joined_text cs) ≡ f = (bytes_eq-Decides (take (length f) (joined_text cs)) f).0 h in
    let n : length (take (length f) (joined_text cs)) ≤ length (joined_text cs) = grind (arith, common_steps) in
    omega (arith, ap length e, n, length-map cs joined_byte)

-- a text occurs where some cells begin with it
occurs-begins : (f : List ℕ) (p cs : List Cell) (i : ℕ) → i ≡ length p → occurs_at (joined_text (p ++ cs)) f i ≡ begins_with f cs
occurs-begins f p cs i e = go (begins_with f cs) refl
  where
    J : List Cell → List ℕ
    J = map joined_byte

    behind : drop i (J (p ++ cs)) ≡ J cs
    behind =
        ap (drop i) (map-append joined_byte p cs) ∙ (ap (λ n. drop n (J p ++ J cs)) (e ∙ sym (length-map p joined_byte)) ∙ drop-append_seam (J p) (J cs))

    same : bytes_eq (take (length f) (drop i (J (p ++ cs)))) f ≡ begins_with f cs
    same = ap (λ z. bytes_eq (take (length f) z) f) behind

    size : length (J (p ++ cs)) ≡ length p + length cs
    size = length-map (p ++ cs) joined_byte ∙ length-append p cs

    go : (b : Bool) → begins_with f cs ≡ b → occurs_at (J (p ++ cs)) f i ≡ b
    go true h =
        let fits : nat_le (i + length f) (length (J (p ++ cs))) ≡ true = le-leb (i + length f) (length (J (p ++ cs))) (omega (arith, e, size, begins-short f cs h)) in
        ap (λ b. b && bytes_eq (take (length f) (drop i (J (p ++ cs)))) f) fits ∙ (same ∙ h)
    go false h = ap (λ b. nat_le (i + length f) (length (J (p ++ cs))) && b) (same ∙ h) ∙ none (nat_le (i + length f) (length (J (p ++ cs))))
      where
        none : (b : Bool) → (b && false) ≡ false
        none true = refl
        none false = refl

-- the occurrences of a text; `k` cells belong to the last one
pub texts-places : (f n : List ℕ) (p cs : List Cell) (k start i m : ℕ) → 1 ≤ length f → k ≤ length cs → i ≡ length p → m ≡ length cs + 1
    → text_places start (length f) (matches_from (joined_text (p ++ cs)) f k i m) ≡ places (start + i + k) (substituted f n k cs)
unfolding matches_from
texts-places f n p [] zero start i m some few e h = ap (λ z. text_places start (length f) (matches_from (joined_text (p ++ [])) f zero i z)) (h ∙ one) ∙ go (occurs_at (joined_text (p ++ [])) f i) refl
  where
    one : 0 + 1 ≡ suc zero
    one = refl

    go : (b : Bool) → occurs_at (joined_text (p ++ [])) f i ≡ b → text_places start (length f) (matches_from (joined_text (p ++ [])) f zero i (suc zero)) ≡ []
    go true o = absurd (let q : begins_with f [] ≡ true = sym (occurs-begins f p [] i e) ∙ o in omega (arith, some, begins-short f [] q))
    go false o = ap (λ b. text_places start (length f) (if b then i ∷ [] else [])) o
texts-places f n p [] (suc k) start i m some few e h = absurd (omega (arith, few))
texts-places f n p (c ∷ cs) (suc k) start i m some few e h =
    let hay : joined_text (p ++ c ∷ cs) ≡ joined_text ((p ++ c ∷ []) ++ cs) = ap joined_text (sym (append_assoc p (c ∷ []) cs)) in
    let s : m ≡ suc (length cs + 1) = omega (arith, h) in
    let next : start + (i + 1) + k ≡ start + i + suc k = omega arith in
    ap (λ z. text_places start (length f) (matches_from (joined_text (p ++ c ∷ cs)) f (suc k) i z)) s
    ∙ (ap (λ z. text_places start (length f) (matches_from z f k (i + 1) (length cs + 1))) hay
    ∙ (texts-places f n (p ++ c ∷ []) cs k start (i + 1) (length cs + 1) some (omega (arith, few)) (omega (arith, e, length-append p (c ∷ []))) refl ∙ ap (λ z. places z (substituted f n k cs)) next))
texts-places f n p (c ∷ cs) zero start i m some few e h =
    let hay : joined_text (p ++ c ∷ cs) ≡ joined_text ((p ++ c ∷ []) ++ cs) = ap joined_text (sym (append_assoc p (c ∷ []) cs)) in
    let s : m ≡ suc (length cs + 1) = omega (arith, h) in
    let at : i + 1 ≡ length (p ++ c ∷ []) = omega (arith, e, length-append p (c ∷ [])) in
    ap (λ z. text_places start (length f) (matches_from (joined_text (p ++ c ∷ cs)) f zero i z)) s
    ∙ go (begins_with f (c ∷ cs)) refl (occurs-begins f p (c ∷ cs) i e)
    (λ few. ap (λ z. text_places start (length f) (matches_from z f (length f - 1) (i + 1) (length cs + 1))) hay ∙ texts-places f n (p ++ c ∷ []) cs (length f - 1) start (i + 1) (length cs + 1) some few at refl)
    (ap (λ z. text_places start (length f) (matches_from z f zero (i + 1) (length cs + 1))) hay ∙ texts-places f n (p ++ c ∷ []) cs zero start (i + 1) (length cs + 1) some (omega arith) at refl)
  where
    go : (b : Bool) → begins_with f (c ∷ cs) ≡ b → occurs_at (joined_text (p ++ c ∷ cs)) f i ≡ begins_with f (c ∷ cs)
        → (length f - 1 ≤ length cs → text_places start (length f) (matches_from (joined_text (p ++ c ∷ cs)) f (length f - 1) (i + 1) (length cs + 1)) ≡ places (start + (i + 1) + (length f - 1)) (substituted f n (length f - 1) cs))
        → text_places start (length f) (matches_from (joined_text (p ++ c ∷ cs)) f zero (i + 1) (length cs + 1)) ≡ places (start + (i + 1) + zero) (substituted f n zero cs)
        → text_places start (length f) (matches_from (joined_text (p ++ c ∷ cs)) f zero i (suc (length cs + 1)))
        ≡ places (start + i + zero) (cond b (Replace (take (length f) (c ∷ cs)) n ∷ substituted f n (length f - 1) cs) (Keep (c ∷ []) ∷ substituted f n zero cs))
    go true q o found none =
        let hay = joined_text (p ++ c ∷ cs) in
        let S = start + i in
        let L = length f in
        let R = substituted f n (L - 1) cs in
        let short = begins-short f (c ∷ cs) q in
        let skip : match_len f - 1 ≡ L - 1 = let x : max L 1 ≡ L = omega (arith, some) in ap (λ z. z - 1) x in
        let wide : length (take L (c ∷ cs)) ≡ L = length-take-le L (c ∷ cs) short in
        let next : S + 1 + (L - 1) ≡ S + zero + L = omega (arith, some) in
        let here : start + (i + 1) + (L - 1) ≡ S + zero + L = omega (arith, some) in
        let zero_at : S ≡ S + zero = omega arith in
        ap (λ b. text_places start L (if b then i ∷ matches_from hay f (match_len f - 1) (i + 1) (length cs + 1) else matches_from hay f 0 (i + 1) (length cs + 1))) (o ∙ q)
        ∙ (ap (λ z. span S (S + L) ∷ text_places start L (matches_from hay f z (i + 1) (length cs + 1))) skip
        ∙ (ap (λ z. span S (S + L) ∷ z) (found (omega (arith, short)) ∙ ap (λ z. places z R) here)
        ∙ (ap (λ z. span z (z + L) ∷ places (S + zero + L) R) zero_at ∙ ap (λ z. span (S + zero) (S + zero + z) ∷ places (S + zero + z) R) (sym wide))))
    go false q o found none =
        let hay = joined_text (p ++ c ∷ cs) in
        let next : start + (i + 1) + zero ≡ start + i + zero + 1 = omega arith in
        ap (λ b. text_places start (length f) (if b then i ∷ matches_from hay f (match_len f - 1) (i + 1) (length cs + 1) else matches_from hay f 0 (i + 1) (length cs + 1))) (o ∙ q)
        ∙ (none ∙ ap (λ z. places z (substituted f n zero cs)) next)

-- the cells of the pieces are the cells
drop-none : (k : ℕ) (cs : List Cell) → cs ≡ [] → cs ≡ drop k cs
drop-none zero cs h = refl
drop-none (suc k) [] h = refl
drop-none (suc k) (c ∷ cs) h = absurd (cc)

pub texts-old : (f n : List ℕ) (k : ℕ) (cs : List Cell) → 1 ≤ length f → old_cells (substituted f n k cs) ≡ drop k cs
texts-old f n k [] h = drop-none k [] refl
texts-old f n (suc k) (c ∷ cs) h = texts-old f n k cs h
texts-old f n zero (c ∷ cs) h = go (begins_with f (c ∷ cs)) f h (texts-old f n (length f - 1) cs h) (texts-old f n zero cs h)
  where
    go : (b : Bool) (g : List ℕ) → 1 ≤ length g → old_cells (substituted f n (length f - 1) cs) ≡ drop (length f - 1) cs → old_cells (substituted f n zero cs) ≡ cs
        → old_cells (cond b (Replace (take (length f) (c ∷ cs)) n ∷ substituted f n (length f - 1) cs) (Keep (c ∷ []) ∷ substituted f n zero cs)) ≡ c ∷ cs
    go true g k d e = front (length f) (length f - 1) (omega (arith, h)) d
      where
        front : (l m : ℕ) → l ≡ m + 1 → old_cells (substituted f n (length f - 1) cs) ≡ drop m cs → take l (c ∷ cs) ++ old_cells (substituted f n (length f - 1) cs) ≡ c ∷ cs
        front l m q d =
            let s : l ≡ suc m = omega (arith, q) in
            ap (λ z. take z (c ∷ cs) ++ old_cells (substituted f n (length f - 1) cs)) s ∙ (ap (λ z. c ∷ (take m cs ++ z)) d ∙ ap (λ z. c ∷ z) (take-append-drop m cs))
    go false g k d e = ap (λ z. c ∷ z) e
