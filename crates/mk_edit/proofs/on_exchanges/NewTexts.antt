-- The text of new lines: the lines of a block with their line ends, and its length.
use Rattle.std.proofs.Common.{◌≡◌, refl, sym, ap, ◌∙◌, arith, ℕ, zero, suc, suc-add, ◌+◌, ◌<◌, ◌≤◌, List, [], ◌∷◌, ◌++◌, append_assoc, Bool, true, false, cond, drop, get_or, length, reverse}
use Rattle.std.specs.Prelude.{◌==◌, count_by, if◌then◌else◌}
use Rattle.std.proofs.lemmas.List.{length-reverse, reverse-append}
use Rattle.std.proofs.lemmas.List.Recursion.{is_count_by}
use Rattle.mk_lines.specs.Lists.{onto_first}
use Rattle.mk_lines.specs.PhysicalLines.{line_end_bytes}
use Rattle.mk_lines.specs.LogicalLines.{has_no_line_end}
use Rattle.mk_lines.specs.declared.ends.End.{End}
use Rattle.mk_lines.specs.declared.ends.End.TheVariants as ends
use Rattle.mk_class.specs.ListTests.{is_empty, last_passes}
use Rattle.mk_edit_language.specs.LineRuns.{before_texts, block_lines}
use Rattle.mk_edit_language.specs.LineExchanges.{with_line_ends}
use Rattle.mk_edit_language.proofs.on_line_runs.BlockTexts.{block-some}
use Rattle.mk_edit.specs.ExchangePlans.{begins_with_line_feed, byte_ended, more_of, text_with_ends}

-- ---- a byte before the lines of a block

feed-before : (e z : End) (ts : List (List ℕ)) → (ts ≡ [] → ⊥) → with_line_ends e z ([] ∷ ts) ≡ line_end_bytes e ++ with_line_ends e z ts
feed-before e z [] some = absurd (some refl)
feed-before e z (t ∷ ts) some = refl

byte-before : (e z : End) (b : ℕ) (ts : List (List ℕ)) → (ts ≡ [] → ⊥) → with_line_ends e z (onto_first (b ∷ []) ts) ≡ b ∷ with_line_ends e z ts
byte-before e z b [] some = absurd (some refl)
byte-before e z b (t ∷ []) some = refl
byte-before e z b (t ∷ u ∷ ts) some = refl

-- the lines of a block with their line ends are its text with these line ends
block-ended : (e z : End) (x : List ℕ) → with_line_ends e z (block_lines x) ≡ text_with_ends e z x
block-ended e z [] = refl
block-ended e z (b ∷ x) = go (b == 10) (block-ended e z x)
  where
    go : (n : Bool) → with_line_ends e z (block_lines x) ≡ text_with_ends e z x → with_line_ends e z (before_texts n b (block_lines x)) ≡ (if n then line_end_bytes e else b ∷ []) ++ text_with_ends e z x
    go true h = feed-before e z (block_lines x) (block-some x) ∙ ap (λ y. line_end_bytes e ++ y) h
    go false h = byte-before e z b (block_lines x) (block-some x) ∙ ap (λ y. b ∷ y) h

-- ---- the length

-- how many line feeds a text has
feeds : List ℕ → ℕ
feeds [] = 0
feeds (b ∷ x) = cond (b == 10) (1 + feeds x) (feeds x)

feeds-counted : (x : List ℕ) → feeds x ≡ count_by (λ b. b == 10) x
unfolding feeds
feeds-counted x = is_count_by feeds (λ b. b == 10) refl (λ b y. refl) x

length-lf : (z : End) (x : List ℕ) → length (text_with_ends ends.Lf z x) ≡ length x + length (line_end_bytes z)
length-lf z [] = omega arith
length-lf z (b ∷ x) = go (b == 10) (length-lf z x)
  where
    go : (n : Bool) → length (text_with_ends ends.Lf z x) ≡ length x + length (line_end_bytes z) → length ((if n then 10 ∷ [] else b ∷ []) ++ text_with_ends ends.Lf z x) ≡ length (b ∷ x) + length (line_end_bytes z)
    go true h = omega (arith, h)
    go false h = omega (arith, h)

length-crlf : (z : End) (x : List ℕ) → length (text_with_ends ends.CrLf z x) ≡ (length x + feeds x) + length (line_end_bytes z)
unfolding feeds
length-crlf z [] = omega arith
length-crlf z (b ∷ x) = go (b == 10) (length-crlf z x)
  where
    go : (n : Bool) → length (text_with_ends ends.CrLf z x) ≡ (length x + feeds x) + length (line_end_bytes z)
        → length ((if n then 13 ∷ 10 ∷ [] else b ∷ []) ++ text_with_ends ends.CrLf z x) ≡ (length (b ∷ x) + cond n (1 + feeds x) (feeds x)) + length (line_end_bytes z)
    go true h = omega (arith, h)
    go false h = omega (arith, h)

pub length-ended : (e z : End) (x : List ℕ) → has_no_line_end e ≡ false → length (with_line_ends e z (block_lines x)) ≡ (length x + more_of e x) + length (line_end_bytes z)
length-ended ends.None z x h = absurd (cc)
length-ended ends.Lf z x h = ap length (block-ended ends.Lf z x) ∙ omega (arith, length-lf z x)
length-ended ends.CrLf z x h = ap length (block-ended ends.CrLf z x) ∙ omega (arith, length-crlf z x, feeds-counted x)

-- ---- the text, written byte by byte

byte-at : (xs : List ℕ) (i : ℕ) → i < length xs → drop i xs ≡ get_or xs i 0 ∷ drop (i + 1) xs
byte-at [] i h = absurd (omega (arith, h))
byte-at (x ∷ xs) zero h = refl
byte-at (x ∷ xs) (suc i) h = rw (suc-add i 1) (byte-at xs i (omega (arith, h)))

-- the text is that of a block, once the bytes from an index on are written
pub byte-written : (e z : End) (block text next : List ℕ) (i : ℕ) → i < length block → next ≡ text ++ byte_ended e (get_or block i 0)
    → next ++ text_with_ends e z (drop (i + 1) block) ≡ text ++ text_with_ends e z (drop i block)
byte-written e z block text next i h w =
    let chunk = byte_ended e (get_or block i 0) in
    ap (λ y. y ++ text_with_ends e z (drop (i + 1) block)) w ∙ (append_assoc text chunk (text_with_ends e z (drop (i + 1) block)) ∙ ap (λ y. text ++ text_with_ends e z y) (sym (byte-at block i h)))

-- all bytes are written
pub all-written : (e z : End) (block text done : List ℕ) (i : ℕ) → length block ≤ i → text ++ text_with_ends e z (drop i block) ≡ text_with_ends e z block → done ≡ text ++ line_end_bytes z
    → done ≡ with_line_ends e z (block_lines block)
all-written e z block text done i h w d =
    d ∙ (ap (λ y. text ++ text_with_ends e z y) (sym (none block i h)) ∙ (w ∙ sym (block-ended e z block)))
  where
    none : (xs : List ℕ) (n : ℕ) → length xs ≤ n → drop n xs ≡ []
    none [] zero k = refl
    none [] (suc n) k = refl
    none (x ∷ xs) zero k = absurd (omega (arith, k))
    none (x ∷ xs) (suc n) k = none xs n (omega (arith, k))

-- ---- the last line of a block

-- whether a text is empty or its last byte is a line feed
last_feed : List ℕ → Bool
last_feed [] = true
last_feed (b ∷ []) = b == 10
last_feed (b ∷ c ∷ x) = last_feed (c ∷ x)

last-empty : (x : List ℕ) → last_passes is_empty (block_lines x) ≡ last_feed x
unfolding last_feed
last-empty [] = refl
last-empty (b ∷ []) = go (b == 10)
  where
    go : (n : Bool) → last_passes is_empty (before_texts n b ([] ∷ [])) ≡ n
    go true = refl
    go false = refl
last-empty (b ∷ c ∷ x) = go (b == 10) (block_lines (c ∷ x)) (block-some (c ∷ x)) (more c x) ∙ last-empty (c ∷ x)
  where
    -- a block of a byte and more is not one empty line
    more : (c : ℕ) (x : List ℕ) → block_lines (c ∷ x) ≡ [] ∷ [] → ⊥
    more c x h = go (c == 10) (block_lines x) (block-some x) h
      where
        go : (n : Bool) (ts : List (List ℕ)) → (ts ≡ [] → ⊥) → before_texts n c ts ≡ [] ∷ [] → ⊥
        go true [] some h = some refl
        go true (t ∷ ts) some h = absurd (cc)
        go false [] some h = some refl
        go false (t ∷ ts) some h = absurd (cc)

    go : (n : Bool) (ts : List (List ℕ)) → (ts ≡ [] → ⊥) → (ts ≡ [] ∷ [] → ⊥) → last_passes is_empty (before_texts n b ts) ≡ last_passes is_empty ts
    go n [] some more = absurd (some refl)
    go true (t ∷ ts) some more = refl
    go false ([] ∷ []) some more = absurd (more refl)
    go false ((d ∷ t) ∷ []) some more = refl
    go false (t ∷ u ∷ ts) some more = refl

feed-reversed : (b : ℕ) (x : List ℕ) → last_feed (b ∷ x) ≡ begins_with_line_feed (reverse (b ∷ x))
unfolding last_feed
feed-reversed b [] = refl
feed-reversed b (c ∷ x) = feed-reversed c x ∙ sym (ap begins_with_line_feed (reverse-append (b ∷ []) (c ∷ x)) ∙ go (reverse (c ∷ x)) (omega (arith, length-reverse (c ∷ x))))
  where
    go : (r : List ℕ) → 0 < length r → begins_with_line_feed (r ++ b ∷ []) ≡ begins_with_line_feed r
    go [] h = absurd (omega (arith, h))
    go (d ∷ r) h = refl

pub last-told : (x : List ℕ) → begins_with_line_feed (reverse x) ≡ last_passes is_empty (block_lines x)
unfolding last_feed
last-told [] = refl
last-told (b ∷ x) = sym (last-empty (b ∷ x) ∙ feed-reversed b x)
