-- The ranges of the words that a rename replaces in a line are the ranges of the replacements that the line's pieces make.
use Rattle.std.proofs.Common.{◌≡◌, refl, sym, ap, ◌∙◌, arith, ℕ, ◌+◌, ◌-◌, Bool, true, false, List, [], ◌∷◌, ◌++◌, take, drop, map, length, length-append, append_assoc, Option, Some, None}
use Rattle.std.specs.Str.{bytes_eq}
use Rattle.std.specs.Prelude.{slice_range, if◌then◌else◌}
use Rattle.std.proofs.lemmas.List.{length-map, map-append}
use Rattle.std.proofs.Math.Seq.{take-append_seam, drop-append_seam}
use Rattle.mk_lines.specs.Lists.{concat}
use Rattle.mk_lines.specs.Cells.{Cell, joined_byte, joined_text, raw_text}
use Rattle.mk_lines.specs.Pieces.{Piece, Keep, Replace, Replacement, old_bytes, replacements}
use Rattle.mk_lines.specs.Ranges.{raw_offset, raw_range, text_at, word_token_ranges, word_ranges}
use Rattle.mk_lines.specs.Units.{units}
use Rattle.mk_lines.specs.Words.{Token, Gap, Word, tokens}
use Rattle.mk_lines.specs.declared.split.Span.{Span}
use Rattle.mk_lines.proofs.on_cells.CellLemmas.{raw_text-append}
use Rattle.mk_lines.proofs.on_units.TokenLemmas.{token_text, token_text-tokens, map_token, tokens-map, concat-map}
use Rattle.mk_class.specs.TextClasses.{itself}
use Rattle.mk_class.proofs.on_classes.PartOffsetLemmas.{offset-after}
use Rattle.mk_tree.proofs.on_changes.SpansInLines.{replacements-append}
use Rattle.mk_edit_language.specs.WordPieces.{is_word_of, kept, renamed_tokens, renamed_words}
use Rattle.mk_edit_parts.specs.RenamedRanges.{span, range_in, ranges_in, before_ranges, part_ranges}

-- replacements of ranges by one text
abbrev pub replacing : (new : List ℕ) → List Span → List Replacement
replacing n [] = []
replacing n (s ∷ ss) = record { start = s.start; end = s.end; new = n } ∷ replacing n ss

-- ---- the words of cells and of their joined text

-- words of mapped units have the same ranges
ranges-map : {A : Type 0} (f : A → ℕ) (at : ℕ) (ts : List (Token A)) → word_token_ranges at (map (map_token f) ts) ≡ word_token_ranges at ts
ranges-map f at [] = refl
ranges-map f at (Gap u ∷ ts) = ap (λ n. word_token_ranges (at + n) (map (map_token f) ts)) (length-map u f) ∙ ranges-map f (at + length u) ts
ranges-map f at (Word w ∷ ts) =
    let e : length (concat (map (map f) w)) ≡ length (concat w) = ap length (concat-map f w) ∙ length-map (concat w) f in
    ap (λ n. span at (at + n) ∷ word_token_ranges (at + n) (map (map_token f) ts)) e ∙ ap (λ z. span at (at + length (concat w)) ∷ z) (ranges-map f (at + length (concat w)) ts)

-- the ranges of the words of a part
part-ranges : (t : List ℕ) (p : List (List Cell)) → units itself t ≡ map (map joined_byte) p → word_ranges t ≡ word_token_ranges 0 (tokens joined_byte p)
part-ranges t p h = ap (λ us. word_token_ranges 0 (tokens itself us)) h ∙ (ap (word_token_ranges 0) (tokens-map joined_byte itself p) ∙ ranges-map joined_byte 0 (tokens joined_byte p))

-- ---- the words of a part that are the old one

slice-at : {A : Type 0} (p w q : List A) (s e : ℕ) → s ≡ length p → e ≡ s + length w → slice_range (p ++ (w ++ q)) s e ≡ w
slice-at p w q s e h k =
    let n : e - s ≡ length w = omega (arith, k) in
    ap (λ m. take m (drop s (p ++ (w ++ q)))) n
    ∙ (ap (λ m. take (length w) (drop m (p ++ (w ++ q)))) h ∙ (ap (take (length w)) (drop-append_seam p (w ++ q)) ∙ take-append_seam w q))

-- The ranges of the old words among some tokens are the ranges of the replacements that the tokens' pieces make.
ranges-pieces : (cs b : List Cell) (ts : List (Token Cell)) (a : List Cell) (o n : List ℕ) (start at : ℕ) → cs ≡ b ++ (token_text ts ++ a) → start + at ≡ length b
    → replacing n (ranges_in cs start o (word_token_ranges at ts)) ≡ replacements (length (raw_text b)) (renamed_tokens o n ts)
ranges-pieces cs b [] a o n start at h k = refl
ranges-pieces cs b (Gap u ∷ ts) a o n start at h k =
    let e : cs ≡ (b ++ u) ++ (token_text ts ++ a) = h ∙ simp append_assoc in
    let m : start + (at + length u) ≡ length (b ++ u) = omega (arith, k, length-append b u) in
    let r : length (raw_text (b ++ u)) ≡ length (raw_text b) + length (raw_text u) = ap length (raw_text-append b u) ∙ length-append (raw_text b) (raw_text u) in
    ranges-pieces cs (b ++ u) ts a o n start (at + length u) e m ∙ ap (λ z. replacements z (renamed_tokens o n ts)) r
ranges-pieces cs b (Word w ∷ ts) a o n start at h k =
    let W = concat w in
    let S = start + at in
    let E = start + (at + length W) in
    let d : E ≡ S + length W = omega arith in
    let f : cs ≡ b ++ (W ++ (token_text ts ++ a)) = h ∙ simp append_assoc in
    let e : cs ≡ (b ++ W) ++ (token_text ts ++ a) = h ∙ simp append_assoc in
    let m : E ≡ length (b ++ W) = omega (arith, k, length-append b W) in
    let r : length (raw_text (b ++ W)) ≡ length (raw_text b) + length (raw_text W) = ap length (raw_text-append b W) ∙ length-append (raw_text b) (raw_text W) in
    let J = map joined_byte in
    let joined : joined_text cs ≡ J b ++ (J W ++ J (token_text ts ++ a)) = ap J f ∙ (map-append joined_byte b (W ++ (token_text ts ++ a)) ∙ ap (λ z. J b ++ z) (map-append joined_byte W (token_text ts ++ a))) in
    let text : text_at (joined_text cs) (span S E) ≡ J W =
    ap (λ t. slice_range t S E) joined ∙ slice-at (J b) (J W) (J (token_text ts ++ a)) S E (k ∙ sym (length-map b joined_byte)) (d ∙ ap (λ z. S + z) (sym (length-map W joined_byte))) in
    let first : raw_offset cs S ≡ length (raw_text b) = offset-after cs b (W ++ (token_text ts ++ a)) S f k in
    let last : raw_offset cs E ≡ length (raw_text b) + length (raw_text W) = offset-after cs (b ++ W) (token_text ts ++ a) E e m ∙ r in
    let rest = ranges-pieces cs (b ++ W) ts a o n start (at + length W) e m ∙ ap (λ z. replacements z (renamed_tokens o n ts)) r in
    go (is_word_of o w) (ap (λ t. bytes_eq t o) text) first last rest
  where
    go : (c : Bool) → bytes_eq (text_at (joined_text cs) (span (start + at) (start + (at + length (concat w))))) o ≡ c
        → raw_offset cs (start + at) ≡ length (raw_text b) → raw_offset cs (start + (at + length (concat w))) ≡ length (raw_text b) + length (raw_text (concat w))
        → replacing n (ranges_in cs start o (word_token_ranges (at + length (concat w)) ts)) ≡ replacements (length (raw_text b) + length (raw_text (concat w))) (renamed_tokens o n ts)
        → replacing n (ranges_in cs start o (word_token_ranges at (Word w ∷ ts))) ≡ replacements (length (raw_text b)) ((if c then Replace (concat w) n else Keep (concat w)) ∷ renamed_tokens o n ts)
    go true t s e r =
        let S = start + at in
        let E = start + (at + length (concat w)) in
        let p : range_in cs start o (span at (at + length (concat w))) ≡ Some (raw_range cs S E) = ap (λ b. if b then Some (raw_range cs S E) else None) t in
        let f : ℕ → ℕ → List Replacement → List Replacement = λ x y z. record { start = x; end = y; new = n } ∷ z in
        ap (λ (z : Option Span). replacing n (before_ranges z (ranges_in cs start o (word_token_ranges (at + length (concat w)) ts)))) p
        ∙ (ap (λ x. f x (raw_offset cs E) (replacing n (ranges_in cs start o (word_token_ranges (at + length (concat w)) ts)))) s
        ∙ (ap (λ y. f (length (raw_text b)) y (replacing n (ranges_in cs start o (word_token_ranges (at + length (concat w)) ts)))) e ∙ ap (f (length (raw_text b)) (length (raw_text b) + length (raw_text (concat w)))) r))
    go false t s e r =
        let S = start + at in
        let E = start + (at + length (concat w)) in
        let p : range_in cs start o (span at (at + length (concat w))) ≡ None = ap (λ b. if b then Some (raw_range cs S E) else None) t in
        ap (λ (z : Option Span). replacing n (before_ranges z (ranges_in cs start o (word_token_ranges (at + length (concat w)) ts)))) p ∙ r

-- The same for a part of a line, which stands between others.
pub part-pieces : (cs : List Cell) (b p a : List (List Cell)) (o n : List ℕ) (s e : ℕ) → cs ≡ concat b ++ (concat p ++ concat a) → s ≡ length (concat b) → units itself (text_at (joined_text cs) (span s e)) ≡ map (map joined_byte) p
    → replacing n (part_ranges cs o (span s e)) ≡ replacements (length (raw_text (concat b))) (renamed_words o n p)
part-pieces cs b p a o n s e h k u =
    let ts = tokens joined_byte p in
    let f : cs ≡ concat b ++ (token_text ts ++ concat a) = h ∙ ap (λ z. concat b ++ (z ++ concat a)) (sym (token_text-tokens joined_byte p)) in
    ap (λ ws. replacing n (ranges_in cs s o ws)) (part-ranges (text_at (joined_text cs) (span s e)) p u) ∙ ranges-pieces cs (concat b) ts (concat a) o n s 0 f (omega (arith, k))

-- ---- several parts

pub replacing-append : (n : List ℕ) (a b : List Span) → replacing n (a ++ b) ≡ replacing n a ++ replacing n b
replacing-append n [] b = refl
replacing-append n (s ∷ a) b = ap (λ z. record { start = s.start; end = s.end; new = n } ∷ z) (replacing-append n a b)

-- the old bytes of a part's pieces are those of its units
tokens-old : (o n : List ℕ) (ts : List (Token Cell)) → old_bytes (renamed_tokens o n ts) ≡ raw_text (token_text ts)
tokens-old o n [] = refl
tokens-old o n (Gap u ∷ ts) = ap (λ z. raw_text u ++ z) (tokens-old o n ts) ∙ sym (raw_text-append u (token_text ts))
tokens-old o n (Word w ∷ ts) = go (is_word_of o w) (tokens-old o n ts)
  where
    go : (c : Bool) → old_bytes (renamed_tokens o n ts) ≡ raw_text (token_text ts) → old_bytes ((if c then Replace (concat w) n else Keep (concat w)) ∷ renamed_tokens o n ts) ≡ raw_text (concat w ++ token_text ts)
    go true i = ap (λ z. raw_text (concat w) ++ z) i ∙ sym (raw_text-append (concat w) (token_text ts))
    go false i = ap (λ z. raw_text (concat w) ++ z) i ∙ sym (raw_text-append (concat w) (token_text ts))

pub words-old : (o n : List ℕ) (us : List (List Cell)) → old_bytes (renamed_words o n us) ≡ raw_text (concat us)
words-old o n us = tokens-old o n (tokens joined_byte us) ∙ ap raw_text (token_text-tokens joined_byte us)

-- the words of a part after units that stay, and then further pieces
pub kept-and_words : (at : ℕ) (k p : List (List Cell)) (o n : List ℕ) (ps : List Piece)
    → replacements at (kept k ++ (renamed_words o n p ++ ps)) ≡ replacements (at + length (raw_text (concat k))) (renamed_words o n p) ++ replacements (at + length (raw_text (concat k)) + length (raw_text (concat p))) ps
kept-and_words at k p o n ps =
    let m = at + length (raw_text (concat k)) in
    replacements-append m (renamed_words o n p) ps ∙ ap (λ z. replacements m (renamed_words o n p) ++ replacements (m + length z) ps) (words-old o n p)
