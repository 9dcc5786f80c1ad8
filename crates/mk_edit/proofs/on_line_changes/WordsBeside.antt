-- A new word beside another one of a value: the code's list of places is that of the value's pieces; how many places there are; and
-- what stands between the two words.
use Rattle.std.proofs.Common.{◌≡◌, refl, sym, ap, ◌∙◌, subst, arith, ℕ, ◌+◌, ◌-◌, ◌≤◌, Bool, true, false, List, [], ◌∷◌, ◌++◌, map, take, drop, length, length-append, append_assoc, Option, Some, None}
use Rattle.std.specs.Prelude.{slice_range, if◌then◌else◌, filter, IfSome}
use Rattle.std.specs.Str.{bytes_eq}
use Rattle.std.proofs.lemmas.List.{take-map, drop-map}
use Rattle.mk_lines.specs.Lists.{concat, FirstFails, LastFails}
use Rattle.mk_lines.specs.Cells.{Cell, Byte, joined_byte, joined_text, raw_text}
use Rattle.mk_lines.specs.Pieces.{Piece, Keep}
use Rattle.mk_lines.specs.Ranges.{text_at, word_token_ranges}
use Rattle.mk_lines.specs.Words.{Token, Gap, Word, tokens, before_tokens, token_words, is_word_first, is_gap, AreTokens}
use Rattle.mk_lines.specs.declared.split.Span.{Span}
use Rattle.mk_lines.proofs.on_units.TokenLemmas.{token_text}
use Rattle.mk_class.specs.ListTests.{is_empty}
use Rattle.mk_edit_language.specs.Edits.{InsertWord}
use Rattle.mk_edit_language.specs.LineChanges.{leading_gaps, separator, word_beside, tokens_beside}
use Rattle.mk_edit_language.specs.WordPieces.{is_word_of}
use Rattle.mk_edit_language.specs.declared.edit.Side.{Side}
use Rattle.mk_edit_language.specs.declared.edit.Side.TheVariants.{Before, After}
use Rattle.mk_edit_parts.specs.LineChangePlaces.{gap_after, gap_before, gap_beside, new_text, separator_among, separator_bytes, separator_text, word_place, word_places}
use Rattle.mk_edit_parts.specs.RenamedRanges.{span, IsWithin}
use Rattle.mk_edit_parts.proofs.on_prerequisites.WordRangeLemmas.{slice-at}
use Rattle.mk_edit_parts.proofs.on_line_changes.PiecePlaces.{places, AllBecome}

-- some cells of a line, by their range
cells-at : (cs b x q : List Cell) (s e : ℕ) → cs ≡ b ++ (x ++ q) → s ≡ length b → e ≡ s + length x → text_at cs (span s e) ≡ x
cells-at cs b x q s e h k m = ap (λ z. slice_range z s e) h ∙ slice-at s e b x q k (omega (arith, k, m))

-- the joined text of a range of cells
joined-at : (cs : List Cell) (s e : ℕ) → text_at (joined_text cs) (span s e) ≡ joined_text (text_at cs (span s e))
joined-at cs s e = ap (take (e - s)) (drop-map joined_byte s cs) ∙ take-map joined_byte (e - s) (drop s cs)

-- whether a range of the joined text is a word
told-at : (cs b q : List Cell) (x : List (List Cell)) (w : List ℕ) (s e : ℕ) → cs ≡ b ++ (concat x ++ q) → s ≡ length b → e ≡ s + length (concat x) → bytes_eq (text_at (joined_text cs) (span s e)) w ≡ is_word_of w x
told-at cs b q x w s e h k m = ap (λ t. bytes_eq t w) (joined-at cs s e ∙ ap joined_text (cells-at cs b (concat x) q s e h k m))

-- ---- the places

-- the place at a word
beside-place : (i : Side) (f : List Cell → List ℕ) (n : List ℕ) (g W h : List Cell) (T : List Piece) (s e : ℕ) → e ≡ s + length W → places s (word_beside i f n g W h ++ T) ≡ word_place (Some i) (span s e) ∷ places e T
beside-place Before f n g W h T s e q =
    let z : s + 0 ≡ s = omega arith in
    ap (λ k. span s k ∷ places (k + length W) T) z ∙ ap (λ k. span s s ∷ places k T) (sym q)
beside-place After f n g W h T s e q =
    let z : s + length W + 0 ≡ s + length W = omega arith in
    ap (λ k. span (s + length W) k ∷ places k T) z ∙ ap (λ k. span k k ∷ places k T) (sym q)

pub beside-places : (i : Side) (f : List Cell → List ℕ) (w n : List ℕ) (cs b g : List Cell) (ts : List (Token Cell)) (a : List Cell) (start at : ℕ) → cs ≡ b ++ (token_text ts ++ a) → start + at ≡ length b
    → word_places (joined_text cs) start (Some i) w (word_token_ranges at ts) ≡ places (start + at) (tokens_beside i f w n g ts)
beside-places i f w n cs b g [] a start at h k = refl
beside-places i f w n cs b g (Gap u ∷ ts) a start at h k =
    let e : cs ≡ (b ++ u) ++ (token_text ts ++ a) = h ∙ simp append_assoc in
    let m : start + (at + length u) ≡ length (b ++ u) = omega (arith, k, length-append b u) in
    let s : start + (at + length u) ≡ start + at + length u = omega arith in
    beside-places i f w n cs (b ++ u) (g ++ u) ts a start (at + length u) e m ∙ ap (λ z. places z (tokens_beside i f w n (g ++ u) ts)) s
beside-places i f w n cs b g (Word x ∷ ts) a start at h k =
    let W = concat x in
    let p : cs ≡ b ++ (W ++ (token_text ts ++ a)) = h ∙ simp append_assoc in
    let e : cs ≡ (b ++ W) ++ (token_text ts ++ a) = h ∙ simp append_assoc in
    let m : start + (at + length W) ≡ length (b ++ W) = omega (arith, k, length-append b W) in
    let s : start + (at + length W) ≡ start + at + length W = omega arith in
    go (is_word_of w x) (told-at cs b (token_text ts ++ a) x w (start + at) (start + (at + length W)) p k s) s (beside-places i f w n cs (b ++ W) [] ts a start (at + length W) e m)
  where
    go : (c : Bool) → bytes_eq (text_at (joined_text cs) (span (start + at) (start + (at + length (concat x))))) w ≡ c → start + (at + length (concat x)) ≡ start + at + length (concat x)
        → word_places (joined_text cs) start (Some i) w (word_token_ranges (at + length (concat x)) ts) ≡ places (start + (at + length (concat x))) (tokens_beside i f w n [] ts)
        → word_places (joined_text cs) start (Some i) w (word_token_ranges at (Word x ∷ ts)) ≡ places (start + at) ((if c then word_beside i f n g (concat x) (leading_gaps ts) else Keep (concat x) ∷ []) ++ tokens_beside i f w n [] ts)
    go true t s r =
        let S = start + at in
        let E = start + (at + length (concat x)) in
        let R = word_places (joined_text cs) start (Some i) w (word_token_ranges (at + length (concat x)) ts) in
        ap (λ b. if b then word_place (Some i) (span S E) ∷ R else R) t
        ∙ (ap (λ z. word_place (Some i) (span S E) ∷ z) r ∙ sym (beside-place i f n g (concat x) (leading_gaps ts) (tokens_beside i f w n [] ts) S E s))
    go false t s r =
        let S = start + at in
        let E = start + (at + length (concat x)) in
        let R = word_places (joined_text cs) start (Some i) w (word_token_ranges (at + length (concat x)) ts) in
        ap (λ b. if b then word_place (Some i) (span S E) ∷ R else R) t ∙ (r ∙ ap (λ z. places z (tokens_beside i f w n [] ts)) s)

-- ---- how many there are

-- how many words of some tokens are this one
abbrev pub count_among : List ℕ → List (Token Cell) → ℕ
count_among w ts = length (filter (λ x. bytes_eq x w) (map (map joined_byte) (token_words ts)))

-- there is one place for each
pub beside-number : (i : Side) (f : List Cell → List ℕ) (w n : List ℕ) (g : List Cell) (ts : List (Token Cell)) (at : ℕ) → length (places at (tokens_beside i f w n g ts)) ≡ count_among w ts
beside-number i f w n g [] at = refl
beside-number i f w n g (Gap u ∷ ts) at = beside-number i f w n (g ++ u) ts (at + length u)
beside-number i f w n g (Word x ∷ ts) at = go (is_word_of w x) (beside-number i f w n [] ts (at + length (concat x)))
  where
    go : (c : Bool) → length (places (at + length (concat x)) (tokens_beside i f w n [] ts)) ≡ count_among w ts
        → length (places at ((if c then word_beside i f n g (concat x) (leading_gaps ts) else Keep (concat x) ∷ []) ++ tokens_beside i f w n [] ts))
        ≡ length (if c then map joined_byte (concat x) ∷ filter (λ x. bytes_eq x w) (map (map joined_byte) (token_words ts)) else filter (λ x. bytes_eq x w) (map (map joined_byte) (token_words ts)))
    go true r =
        let E = at + length (concat x) in
        omega (arith, ap length (beside-place i f n g (concat x) (leading_gaps ts) (tokens_beside i f w n [] ts) at E refl), r)
    go false r = r

-- ---- what goes there

-- no word is this one, so nothing goes anywhere
none-become : (i : Side) (f : List Cell → List ℕ) (w n m : List ℕ) (g : List Cell) (ts : List (Token Cell)) → count_among w ts ≡ 0 → AllBecome m (tokens_beside i f w n g ts)
none-become i f w n m g [] h = tt
none-become i f w n m g (Gap u ∷ ts) h = none-become i f w n m (g ++ u) ts h
none-become i f w n m g (Word x ∷ ts) h = go (is_word_of w x) h (λ k. none-become i f w n m [] ts k)
  where
    go : (c : Bool) → length (if c then map joined_byte (concat x) ∷ filter (λ x. bytes_eq x w) (map (map joined_byte) (token_words ts)) else filter (λ x. bytes_eq x w) (map (map joined_byte) (token_words ts))) ≡ 0
        → (count_among w ts ≡ 0 → AllBecome m (tokens_beside i f w n [] ts))
        → AllBecome m ((if c then word_beside i f n g (concat x) (leading_gaps ts) else Keep (concat x) ∷ []) ++ tokens_beside i f w n [] ts)
    go true h r = absurd (omega (arith, h))
    go false h r = r h

-- what separates a new word from a word on this side of it
abbrev separator_on : Side → (before after : List Cell) → List Cell
separator_on Before b a = separator b a
separator_on After b a = separator a b

-- what separates a new word from the first word that is this one; `before` stands directly before the tokens
abbrev pub first_separator : Side → (word : List ℕ) → (before : List Cell) → List (Token Cell) → List Cell
first_separator i w g [] = Byte 32 ∷ []
first_separator i w g (Gap u ∷ ts) = first_separator i w (g ++ u) ts
first_separator i w g (Word x ∷ ts) = if is_word_of w x then separator_on i g (leading_gaps ts) else first_separator i w [] ts

side-become : (i : Side) (f : List Cell → List ℕ) (w n v : List ℕ) (g W h : List Cell) (T : List Piece) → AllBecome (new_text (InsertWord i w n) (f (separator_on i g h)) v) T
    → AllBecome (new_text (InsertWord i w n) (f (separator_on i g h)) v) (word_beside i f n g W h ++ T)
side-become Before f w n v g W h T r = (refl, r)
side-become After f w n v g W h T r = (refl, r)

-- one word at most is this one, so one text goes to each place
pub one-become : (i : Side) (f : List Cell → List ℕ) (w n v : List ℕ) (g : List Cell) (ts : List (Token Cell)) → count_among w ts ≤ 1 → AllBecome (new_text (InsertWord i w n) (f (first_separator i w g ts)) v) (tokens_beside i f w n g ts)
one-become i f w n v g [] h = tt
one-become i f w n v g (Gap u ∷ ts) h = one-become i f w n v (g ++ u) ts h
one-become i f w n v g (Word x ∷ ts) h = go (is_word_of w x) h (λ k. one-become i f w n v [] ts k)
  where
    go : (c : Bool) → length (if c then map joined_byte (concat x) ∷ filter (λ x. bytes_eq x w) (map (map joined_byte) (token_words ts)) else filter (λ x. bytes_eq x w) (map (map joined_byte) (token_words ts))) ≤ 1
        → (count_among w ts ≤ 1 → AllBecome (new_text (InsertWord i w n) (f (first_separator i w [] ts)) v) (tokens_beside i f w n [] ts))
        → AllBecome (new_text (InsertWord i w n) (f (if c then separator_on i g (leading_gaps ts) else first_separator i w [] ts)) v)
        ((if c then word_beside i f n g (concat x) (leading_gaps ts) else Keep (concat x) ∷ []) ++ tokens_beside i f w n [] ts)
    go true h r =
        side-become i f w n v g (concat x) (leading_gaps ts) (tokens_beside i f w n [] ts)
        (none-become i f w n (new_text (InsertWord i w n) (f (separator_on i g (leading_gaps ts))) v) [] ts (omega (arith, h)))
    go false h r = r h

-- ---- the separator

-- the cells of a separator
abbrev pub separator_cells : List Cell → Option Span → List Cell
separator_cells cs None = Byte 32 ∷ []
separator_cells cs (Some s) = text_at cs s

pub separator-text : (cs : List Cell) (o : Option Span) → separator_text (joined_text cs) o ≡ joined_text (separator_cells cs o)
separator-text cs None = refl
separator-text cs (Some s) = joined-at cs s.start s.end

pub separator-bytes : (cs : List Cell) (o : Option Span) → separator_bytes cs o ≡ raw_text (separator_cells cs o)
separator-bytes cs None = refl
separator-bytes cs (Some s) = refl

-- no gap stands last
abbrev EndInWord : List (Token Cell) → Type 0
EndInWord [] = Unit {0}
EndInWord (Word x ∷ ts) = EndInWord ts
EndInWord (Gap u ∷ []) = ⊥
EndInWord (Gap u ∷ t ∷ ts) = EndInWord (t ∷ ts)

-- whether a gap stands first
abbrev is_gap_first : List (Token Cell) → Bool
is_gap_first (Gap u ∷ ts) = true
is_gap_first ts = false

-- the range of some cells, if there are any
abbrev range_of : (start : ℕ) → List Cell → Option Span
range_of s g = if is_empty g then None else Some (span s (s + length g))

gap-some : (u g : List Cell) → is_gap joined_byte u ≡ true → is_empty (u ++ g) ≡ false
gap-some [] g h = absurd (cc)
gap-some (c ∷ u) g h = refl

-- the gaps up to the next word, where there is one
next-gap : (start n at : ℕ) (ts : List (Token Cell)) → EndInWord ts → is_empty ts ≡ false → gap_after start n (word_token_ranges at ts) ≡ Some (span n (start + at + length (leading_gaps ts)))
next-gap start n at [] e h = absurd (cc)
next-gap start n at (Word x ∷ ts) e h = let z : start + at ≡ start + at + 0 = omega arith in ap (λ k. Some (span n k)) z
next-gap start n at (Gap u ∷ []) e h = absurd e
next-gap start n at (Gap u ∷ t ∷ ts) e h =
    let z : start + (at + length u) + length (leading_gaps (t ∷ ts)) ≡ start + at + length (u ++ leading_gaps (t ∷ ts)) = omega (arith, length-append u (leading_gaps (t ∷ ts))) in
    next-gap start n (at + length u) (t ∷ ts) e refl ∙ ap (λ k. Some (span n k)) z

after-range : (start n at : ℕ) (ts : List (Token Cell)) → AreTokens joined_byte ts → EndInWord ts → is_word_first ts ≡ false → n ≡ start + at → gap_after start n (word_token_ranges at ts) ≡ range_of n (leading_gaps ts)
after-range start n at [] t e h k = refl
after-range start n at (Word x ∷ ts) t e h k = absurd (cc)
after-range start n at (Gap u ∷ ts) t e h k =
    let L = u ++ leading_gaps ts in
    next-gap start n at (Gap u ∷ ts) e refl
    ∙ (ap (λ m. Some (span n (m + length L))) (sym k) ∙ ap (λ b. if b then None else Some (span n (n + length L))) (sym (gap-some u (leading_gaps ts) t.0)))

-- the cells after the gaps at the front
abbrev after_gaps : List (Token Cell) → List Cell
after_gaps [] = []
after_gaps (Gap u ∷ ts) = after_gaps ts
after_gaps (Word x ∷ ts) = concat x ++ token_text ts

gaps-lead : (ts : List (Token Cell)) → token_text ts ≡ leading_gaps ts ++ after_gaps ts
gaps-lead [] = refl
gaps-lead (Gap u ∷ ts) = ap (λ z. u ++ z) (gaps-lead ts) ∙ sym (append_assoc u (leading_gaps ts) (after_gaps ts))
gaps-lead (Word x ∷ ts) = refl

-- this range, if there is one, stands within a line, and has these cells
pub record IsSeparator (cs : List Cell) (o : Option Span) (s : List Cell) : Type 0 where
  pub within : IfSome o (IsWithin (length cs))
  pub cells : separator_cells cs o ≡ s

-- a range of some cells that stand in a line
abbrev IsRange : (cs : List Cell) → (start : ℕ) → List Cell → Type 0
IsRange cs s g = (text_at cs (span s (s + length g)) ≡ g) × (s + length g ≤ length cs)

range-at : (cs b g q : List Cell) (s : ℕ) → cs ≡ b ++ (g ++ q) → s ≡ length b → IsRange cs s g
range-at cs b g q s h k = (cells-at cs b g q s (s + length g) h k refl, omega (arith, k, ap length h, length-append b (g ++ q), length-append g q))

-- the range that is chosen of two
chosen-is : (i : Side) (cs : List Cell) (m n : ℕ) (g h : List Cell) → IsRange cs m g → IsRange cs n h → IsSeparator cs (gap_beside i (range_of m g) (range_of n h)) (separator_on i g h)
chosen-is Before cs m n [] [] j k = record { within = tt; cells = refl }
chosen-is Before cs m n [] (c ∷ h) j k = record { within = (omega arith, k.1); cells = k.0 }
chosen-is Before cs m n (c ∷ g) h j k = record { within = (omega arith, j.1); cells = j.0 }
chosen-is After cs m n [] [] j k = record { within = tt; cells = refl }
chosen-is After cs m n (c ∷ g) [] j k = record { within = (omega arith, j.1); cells = j.0 }
chosen-is After cs m n g (c ∷ h) j k = record { within = (omega arith, k.1); cells = k.0 }

-- Where some tokens stand: at the front, where no gap stands; or behind a word, which ends with the cells `done`, and gaps.
abbrev StandBehind : (word_end : Option ℕ) → (done gaps : List Cell) → List (Token Cell) → Type 0
StandBehind None d g ts = (g ≡ []) × (is_gap_first ts ≡ false)
StandBehind (Some k) d g ts = (k ≡ length d) × (is_empty g ≡ true → is_word_first ts ≡ false)

before-range : (o : Option ℕ) (d g : List Cell) (x : List (List Cell)) (ts : List (Token Cell)) (s : ℕ) → StandBehind o d g (Word x ∷ ts) → s ≡ length d + length g → gap_before o s ≡ range_of (length d) g
before-range None d g x ts s h k = ap (range_of (length d)) (sym h.0)
before-range (Some e) d [] x ts s h k = absurd (let q : true ≡ false = h.1 refl in cc)
before-range (Some e) d (c ∷ g) x ts s h k = ap (λ z. Some (span z s)) h.0 ∙ ap (λ z. Some (span (length d) z)) k

-- the code's separator is that of the first word that is this one
pub separator-is : (i : Side) (w : List ℕ) (o : Option ℕ) (cs d g : List Cell) (ts : List (Token Cell)) (a : List Cell) (start at : ℕ) → cs ≡ d ++ (g ++ (token_text ts ++ a)) → start + at ≡ length d + length g
    → AreTokens joined_byte ts → EndInWord ts → StandBehind o d g ts → IsSeparator cs (separator_among i (joined_text cs) start w o (word_token_ranges at ts)) (first_separator i w g ts)
separator-is i w o cs d g [] a start at h k t e b = record { within = tt; cells = refl }
separator-is i w None cs d g (Gap u ∷ ts) a start at h k t e b = absurd (let q : true ≡ false = b.1 in cc)
separator-is i w (Some j) cs d g (Gap u ∷ ts) a start at h k t e b =
    separator-is i w (Some j) cs d (g ++ u) ts a start (at + length u) (h ∙ simp append_assoc) (omega (arith, k, length-append g u)) t.1 (ending ts e) (b.0, filled)
  where
    ending : (ts : List (Token Cell)) → EndInWord (Gap u ∷ ts) → EndInWord ts
    ending [] e = absurd e
    ending (x ∷ ts) e = e

    some : (g u : List Cell) → is_gap joined_byte u ≡ true → is_empty (g ++ u) ≡ true → ⊥
    some [] [] p q = absurd (cc)
    some [] (c ∷ u) p q = absurd (cc)
    some (c ∷ g) u p q = absurd (cc)

    filled : is_empty (g ++ u) ≡ true → is_word_first ts ≡ false
    filled q = absurd (some g u t.0 q)
separator-is i w o cs d g (Word x ∷ ts) a start at h k t e b =
    let X = concat x in
    let S = start + at in
    let E = start + (at + length X) in
    let whole : cs ≡ (d ++ g) ++ (X ++ (token_text ts ++ a)) = h ∙ simp append_assoc in
    let led : cs ≡ d ++ (g ++ (X ++ (token_text ts ++ a))) = h ∙ simp append_assoc in
    let behind : cs ≡ (d ++ (g ++ X)) ++ (leading_gaps ts ++ (after_gaps ts ++ a)) = h ∙ (ap (λ z. d ++ (g ++ ((X ++ z) ++ a))) (gaps-lead ts) ∙ simp append_assoc) in
    let next : cs ≡ (d ++ (g ++ X)) ++ ([] ++ (token_text ts ++ a)) = h ∙ simp append_assoc in
    let s : S ≡ length (d ++ g) = omega (arith, k, length-append d g) in
    let n : E ≡ S + length X = omega arith in
    let m : E ≡ length (d ++ (g ++ X)) = omega (arith, k, length-append d (g ++ X), length-append g X) in
    go (is_word_of w x) (told-at cs (d ++ g) (token_text ts ++ a) x w S E whole s n)
    (before-range o d g x ts S b k) (after-range start E (at + length X) ts t.2 e t.1 refl)
    (range-at cs d g (X ++ (token_text ts ++ a)) (length d) led refl) (range-at cs (d ++ (g ++ X)) (leading_gaps ts) (after_gaps ts ++ a) E behind m)
    (separator-is i w (Some E) cs (d ++ (g ++ X)) [] ts a start (at + length X) next (omega (arith, m)) t.2 e (m, λ q. t.1))
  where
    go : (c : Bool) → bytes_eq (text_at (joined_text cs) (span (start + at) (start + (at + length (concat x))))) w ≡ c
        → gap_before o (start + at) ≡ range_of (length d) g → gap_after start (start + (at + length (concat x))) (word_token_ranges (at + length (concat x)) ts) ≡ range_of (start + (at + length (concat x))) (leading_gaps ts)
        → IsRange cs (length d) g → IsRange cs (start + (at + length (concat x))) (leading_gaps ts)
        → IsSeparator cs (separator_among i (joined_text cs) start w (Some (start + (at + length (concat x)))) (word_token_ranges (at + length (concat x)) ts)) (first_separator i w [] ts)
        → IsSeparator cs (separator_among i (joined_text cs) start w o (word_token_ranges at (Word x ∷ ts))) (if c then separator_on i g (leading_gaps ts) else first_separator i w [] ts)
    go true q f l y z r =
        let S = start + at in
        let E = start + (at + length (concat x)) in
        let R = word_token_ranges (at + length (concat x)) ts in
        let p : separator_among i (joined_text cs) start w o (word_token_ranges at (Word x ∷ ts)) ≡ gap_beside i (range_of (length d) g) (range_of E (leading_gaps ts)) =
        ap (λ c. if c then gap_beside i (gap_before o S) (gap_after start E R) else separator_among i (joined_text cs) start w (Some E) R) q
        ∙ (ap (λ v. gap_beside i v (gap_after start E R)) f ∙ ap (gap_beside i (range_of (length d) g)) l) in
        subst (λ v. IsSeparator cs v (separator_on i g (leading_gaps ts))) (sym p) (chosen-is i cs (length d) E g (leading_gaps ts) y z)
    go false q f l y z r =
        let S = start + at in
        let E = start + (at + length (concat x)) in
        let R = word_token_ranges (at + length (concat x)) ts in
        let p : separator_among i (joined_text cs) start w o (word_token_ranges at (Word x ∷ ts)) ≡ separator_among i (joined_text cs) start w (Some E) R =
        ap (λ c. if c then gap_beside i (gap_before o S) (gap_after start E R) else separator_among i (joined_text cs) start w (Some E) R) q in
        subst (λ v. IsSeparator cs v (first_separator i w [] ts)) (sym p) r

-- ---- the tokens of a value

-- units that begin with no gap have no gap first
pub begin-in_word : (us : List (List Cell)) → FirstFails (is_gap joined_byte) us → is_gap_first (tokens joined_byte us) ≡ false
begin-in_word [] h = refl
begin-in_word (u ∷ us) h = ap (λ g. is_gap_first (before_tokens g u (tokens joined_byte us))) h ∙ go (tokens joined_byte us)
  where
    go : (ts : List (Token Cell)) → is_gap_first (before_tokens false u ts) ≡ false
    go [] = refl
    go (Gap v ∷ ts) = refl
    go (Word x ∷ ts) = refl

-- units that end with no gap have no gap last
pub end-in_word : (us : List (List Cell)) → LastFails (is_gap joined_byte) us → EndInWord (tokens joined_byte us)
end-in_word [] h = tt
end-in_word (u ∷ []) h = go (is_gap joined_byte u) h
  where
    go : (g : Bool) → g ≡ false → EndInWord (before_tokens g u [])
    go true q = absurd (cc)
    go false q = tt
end-in_word (u ∷ v ∷ us) h = go (is_gap joined_byte u) (tokens joined_byte (v ∷ us)) (some (is_gap joined_byte v) (tokens joined_byte us)) (end-in_word (v ∷ us) h)
  where
    some : (g : Bool) (ts : List (Token Cell)) → is_empty (before_tokens g v ts) ≡ false
    some true ts = refl
    some false [] = refl
    some false (Gap x ∷ ts) = refl
    some false (Word x ∷ ts) = refl

    go : (g : Bool) (ts : List (Token Cell)) → is_empty ts ≡ false → EndInWord ts → EndInWord (before_tokens g u ts)
    go true [] q e = absurd (cc)
    go true (t ∷ ts) q e = e
    go false [] q e = absurd (cc)
    go false (Gap x ∷ ts) q e = e
    go false (Word x ∷ ts) q e = e
