-- A line cut at the ranges of its words: where the last word ends, and the bytes without some words.
use Rattle.std.proofs.Common.{◌≡◌, refl, sym, ap, ◌∙◌, subst, arith, ℕ, ◌+◌, ◌-◌, ◌≤◌, List, [], ◌∷◌, ◌++◌, map, length, length-append, length-take, length-drop, take, drop, append_assoc, Bool, true, false, if◌then◌else◌}
use Rattle.std.specs.Str.{bytes_eq}
use Rattle.std.specs.Prelude.{slice_range}
use Rattle.std.proofs.lemmas.List.{append-nil, map-append, length-map}
use Rattle.std.proofs.Math.Seq.{take-append_seam, drop-append_seam}
use Rattle.mk_lines.specs.Lists.{concat, trim_end, trim_end_before}
use Rattle.mk_lines.specs.Cells.{Cell, joined_byte, joined_text, raw_text}
use Rattle.mk_lines.specs.Pieces.{Piece, Keep, Replace, new_bytes}
use Rattle.mk_lines.specs.Words.{Token, Gap, Word, tokens, token_units, is_gap, IsWord, AreTokens, words_in}
use Rattle.mk_lines.specs.Ranges.{text_at, word_token_ranges, word_ranges}
use Rattle.mk_lines.specs.declared.split.Span.{Span}
use Rattle.mk_lines.specs.Units.{units}
use Rattle.mk_lines.proofs.on_units.UnitLemmas.{concat-units}
use Rattle.mk_lines.proofs.on_units.TokenLemmas.{token_text, map_token, concat-map, tokens-map, tokens-are_tokens, token_units-tokens, token_text-tokens}
use Rattle.mk_class.specs.Texts.{word_texts}
use Rattle.mk_class.specs.LocatedClasses.{width}
use Rattle.mk_class.specs.PartOffsets.{IsPart}
use Rattle.mk_class.specs.TextClasses.{itself}
use Rattle.mk_class.proofs.on_classes.PartOffsetLemmas.{width-append}
use Rattle.mk_class.proofs.on_classes.FirstWordLemmas.{text_words-words}
use Rattle.mk_edit_language.specs.WordPieces.{is_word_of, removed_tokens}
use Rattle.mk_edit_parts.specs.WordCuts.{raw_between, without_words, last_end}

-- ---- ranges

-- what stands between two others
pub slice-at : {A : Type 0} (s e : ℕ) (p w q : List A) → s ≡ length p → e ≡ length p + length w → slice_range (p ++ (w ++ q)) s e ≡ w
slice-at s e p w q h k =
    let n : e - s ≡ length w = omega (arith, h, k) in
    ap (λ m. take m (drop s (p ++ (w ++ q)))) n
    ∙ (ap (λ m. take (length w) (drop m (p ++ (w ++ q)))) h ∙ (ap (take (length w)) (drop-append_seam p (w ++ q)) ∙ take-append_seam w q))

-- images of tokens have the ranges of the tokens
ranges-map : {A B : Type 0} (f : A → B) (at : ℕ) (ts : List (Token A)) → word_token_ranges at (map (map_token f) ts) ≡ word_token_ranges at ts
ranges-map f at [] = refl
ranges-map f at (Gap u ∷ ts) = ap (λ n. word_token_ranges (at + n) (map (map_token f) ts)) (length-map u f) ∙ ranges-map f (at + length u) ts
ranges-map f at (Word w ∷ ts) =
    let n : length (concat (map (map f) w)) ≡ length (concat w) = ap length (concat-map f w) ∙ length-map (concat w) f in
    ap (λ n. record { start = at; end = at + n } ∷ word_token_ranges (at + n) (map (map_token f) ts)) n
    ∙ ap (λ z. record { start = at; end = at + length (concat w) } ∷ z) (ranges-map f (at + length (concat w)) ts)

-- the ranges of the words of a part are those of its units
pub part-ranges : (cs : List Cell) (s e : ℕ) (b p : List (List Cell)) → IsPart cs s e b p → word_ranges (text_at (joined_text cs) (record { start = s; end = e })) ≡ word_token_ranges 0 (tokens joined_byte p)
part-ranges cs s e b p h =
    ap (λ us. word_token_ranges 0 (tokens itself us)) h.units_are
    ∙ (ap (word_token_ranges 0) (tokens-map joined_byte itself p) ∙ ranges-map joined_byte 0 (tokens joined_byte p))

-- ranges that follow one another from one offset to another
abbrev pub AreRising : (from to : ℕ) → List Span → Type 0
AreRising a b [] = a ≤ b
AreRising a b (s ∷ ss) = (a ≤ s.start) × (s.start ≤ s.end) × (s.end ≤ b) × AreRising s.end b ss

AreRising-from : (a a' b : ℕ) (ss : List Span) → a' ≤ a → AreRising a b ss → AreRising a' b ss
AreRising-from a a' b [] h k = omega (arith, h, k)
AreRising-from a a' b (s ∷ ss) h k = (omega (arith, h, k.0), k.1, k.2, k.3)

ranges-rise : {A : Type 0} (at : ℕ) (ts : List (Token A)) → AreRising at (at + length (token_text ts)) (word_token_ranges at ts)
ranges-rise at [] = omega arith
ranges-rise at (Gap u ∷ ts) =
    let n : at + length u + length (token_text ts) ≡ at + length (u ++ token_text ts) = omega (arith, length-append u (token_text ts)) in
    AreRising-from (at + length u) at _ _ (omega arith) (subst (λ n. AreRising (at + length u) n (word_token_ranges (at + length u) ts)) n (ranges-rise (at + length u) ts))
ranges-rise at (Word w ∷ ts) =
    let x = concat w in
    let n : at + length x + length (token_text ts) ≡ at + length (x ++ token_text ts) = omega (arith, length-append x (token_text ts)) in
    (omega arith, omega arith, omega (arith, n), subst (λ n. AreRising (at + length x) n (word_token_ranges (at + length x) ts)) n (ranges-rise (at + length x) ts))

-- ---- the last word

-- the front of units up to their last word
trim-word : (x us : List (List Cell)) → IsWord joined_byte x → trim_end (is_gap joined_byte) (x ++ us) ≡ x ++ trim_end (is_gap joined_byte) us
trim-word [] us h = absurd h
trim-word (u ∷ []) us h = ap (λ b. trim_end_before b u (trim_end (is_gap joined_byte) us)) h
trim-word (u ∷ v ∷ x) us h =
    ap (λ b. trim_end_before b u (trim_end (is_gap joined_byte) (v ∷ x ++ us))) h.0 ∙ ap (λ z. u ∷ z) (trim-word (v ∷ x) us h.1)

-- where units end that begin at an offset; the other offset `k` if there are no units
abbrev ends_at : (at k : ℕ) → List (List Cell) → ℕ
ends_at at k [] = at
ends_at at k (u ∷ us) = k + width (u ∷ us)

ends-gap : (at k : ℕ) (u : List Cell) (T : List (List Cell)) → ends_at at (k + length u) T ≡ ends_at at k (trim_end_before true u T)
ends-gap at k u [] = refl
ends-gap at k u (y ∷ T) = omega (arith, length-append u (concat (y ∷ T)))

ends-word : (at k : ℕ) (x T : List (List Cell)) → IsWord joined_byte x → ends_at (k + width x) (k + width x) T ≡ ends_at at k (x ++ T)
ends-word at k [] T h = absurd h
ends-word at k (u ∷ x) [] h = let z : (u ∷ x) ++ [] ≡ u ∷ x = append-nil (u ∷ x) in sym (ap (ends_at at k) z)
ends-word at k (u ∷ x) (y ∷ T) h = omega (arith, width-append (u ∷ x) (y ∷ T))

tokens-end : (at k : ℕ) (ts : List (Token Cell)) → AreTokens joined_byte ts → last_end at (word_token_ranges k ts) ≡ ends_at at k (trim_end (is_gap joined_byte) (token_units ts))
tokens-end at k [] h = refl
tokens-end at k (Gap u ∷ ts) h =
    let T = trim_end (is_gap joined_byte) (token_units ts) in
    tokens-end at (k + length u) ts h.1 ∙ (ends-gap at k u T ∙ ap (λ b. ends_at at k (trim_end_before b u T)) (sym h.0))
tokens-end at k (Word x ∷ ts) h =
    let T = trim_end (is_gap joined_byte) (token_units ts) in
    tokens-end (k + width x) (k + width x) ts h.2 ∙ (ends-word at k x T h.0 ∙ ap (ends_at at k) (sym (trim-word x (token_units ts) h.0)))

ends-first : (us : List (List Cell)) → ends_at 0 0 us ≡ width us
ends-first [] = refl
ends-first (u ∷ us) = omega arith

-- the offset where the last word of units ends is the offset where their front ends
pub units-last_end : (us : List (List Cell)) → last_end 0 (word_token_ranges 0 (tokens joined_byte us)) ≡ width (trim_end (is_gap joined_byte) us)
units-last_end us =
    tokens-end 0 0 (tokens joined_byte us) (tokens-are_tokens joined_byte us)
    ∙ (ap (λ z. ends_at 0 0 (trim_end (is_gap joined_byte) z)) (token_units-tokens joined_byte us) ∙ ends-first (trim_end (is_gap joined_byte) us))

-- ---- words that go

-- What is done of a line's part, and what is not: the line's cells; the cells that are done; the gaps that are not done yet; the
-- tokens that are still to come; and the cells after the part. The part's text is told by the cells of it that were seen.
pub record IsCut (cs : List Cell) (start : ℕ) (t : List ℕ) (done k end : ℕ) (F G : List Cell) (ts : List (Token Cell)) (A P : List Cell) : Type 0 where
  pub cells_are : cs ≡ F ++ (G ++ (token_text ts ++ A))
  pub text_is : t ≡ map joined_byte (P ++ token_text ts)
  pub done_is : done ≡ length F
  pub seen_is : k ≡ length P
  pub offset_is : start + k ≡ length F + length G
  pub end_is : end ≡ length F + (length G + length (token_text ts))

-- a part of which nothing is done
pub part-cut : (cs : List Cell) (s e : ℕ) (b p : List (List Cell)) (F A : List Cell) → IsPart cs s e b p → cs ≡ F ++ (concat p ++ A) → s ≡ length F → e ≡ length F + width p
    → IsCut cs s (text_at (joined_text cs) (record { start = s; end = e })) s 0 e F [] (tokens joined_byte p) A []
part-cut cs s e b p F A h whole offset end =
    let own : token_text (tokens joined_byte p) ≡ concat p = token_text-tokens joined_byte p in
    record {
      cells_are = whole ∙ ap (λ z. F ++ (z ++ A)) (sym own);
      text_is = h.text_is ∙ ap (map joined_byte) (sym own);
      done_is = offset;
      seen_is = refl;
      offset_is = omega (arith, offset);
      end_is = omega (arith, end, ap length own);
    }

-- after a blank or a fold
pub cut-gap : (cs : List Cell) (start : ℕ) (t : List ℕ) (done k end : ℕ) (F G u : List Cell) (ts : List (Token Cell)) (A P : List Cell) → IsCut cs start t done k end F G (Gap u ∷ ts) A P
    → IsCut cs start t done (k + length u) end F (G ++ u) ts A (P ++ u)
cut-gap cs start t done k end F G u ts A P C = record {
  cells_are = C.cells_are ∙ simp append_assoc;
  text_is = C.text_is ∙ ap (map joined_byte) (sym (append_assoc P u (token_text ts)));
  done_is = C.done_is;
  seen_is = omega (arith, C.seen_is, length-append P u);
  offset_is = omega (arith, C.offset_is, length-append G u);
  end_is = omega (arith, C.end_is, length-append G u, length-append u (token_text ts));
}

-- a word that comes next: its text, its raw bytes with the gaps before it and without them, and what is done after it
pub record IsNextWord (cs : List Cell) (start : ℕ) (t : List ℕ) (done k end : ℕ) (F G : List Cell) (x : List (List Cell)) (ts : List (Token Cell)) (A P : List Cell) : Type 0 where
  pub text_is : text_at t (record { start = k; end = k + length (concat x) }) ≡ map joined_byte (concat x)
  pub led : raw_between cs done (start + (k + length (concat x))) ≡ raw_text (G ++ concat x)
  pub own : raw_between cs (start + k) (start + (k + length (concat x))) ≡ raw_text (concat x)
  pub rest : IsCut cs start t (start + (k + length (concat x))) (k + length (concat x)) end (F ++ (G ++ concat x)) [] ts A (P ++ concat x)

pub cut-word : (cs : List Cell) (start : ℕ) (t : List ℕ) (done k end : ℕ) (F G : List Cell) (x : List (List Cell)) (ts : List (Token Cell)) (A P : List Cell) → IsCut cs start t done k end F G (Word x ∷ ts) A P
    → IsNextWord cs start t done k end F G x ts A P
cut-word cs start t done k end F G x ts A P C =
    let X = concat x in
    let J = map joined_byte in
    let e = k + length X in
    let whole : cs ≡ F ++ ((G ++ X) ++ (token_text ts ++ A)) = C.cells_are ∙ simp append_assoc in
    let apart : cs ≡ (F ++ G) ++ (X ++ (token_text ts ++ A)) = C.cells_are ∙ simp append_assoc in
    record {
      text_is =
          ap (λ z. slice_range z k e) (C.text_is ∙ (map-append joined_byte P (X ++ token_text ts) ∙ ap (λ z. J P ++ z) (map-append joined_byte X (token_text ts))))
          ∙ slice-at k e (J P) (J X) (J (token_text ts)) (C.seen_is ∙ sym (length-map P joined_byte)) (omega (arith, C.seen_is, length-map P joined_byte, length-map X joined_byte));
      led =
          ap raw_text (ap (λ z. slice_range z done (start + e)) whole
          ∙ slice-at done (start + e) F (G ++ X) (token_text ts ++ A) C.done_is (omega (arith, C.offset_is, length-append G X)));
      own =
          ap raw_text (ap (λ z. slice_range z (start + k) (start + e)) apart
          ∙ slice-at (start + k) (start + e) (F ++ G) X (token_text ts ++ A) (omega (arith, C.offset_is, length-append F G)) (omega (arith, C.offset_is, length-append F G)));
      rest = record {
        cells_are = whole ∙ simp append_assoc;
        text_is = C.text_is ∙ ap J (sym (append_assoc P X (token_text ts)));
        done_is = omega (arith, C.offset_is, length-append F (G ++ X), length-append G X);
        seen_is = omega (arith, C.seen_is, length-append P X);
        offset_is = omega (arith, C.offset_is, length-append F (G ++ X), length-append G X);
        end_is = omega (arith, C.end_is, length-append F (G ++ X), length-append G X, length-append X (token_text ts));
      };
    }

without-one : (b : Bool) (r x R : List ℕ) (cs : List Cell) (ps : List Piece) → r ≡ raw_text cs → R ≡ new_bytes ps → (if b then [] else r) ++ R ≡ new_bytes ((if b then Replace cs [] else Keep cs) ∷ ps)
without-one true r x R cs ps h k = k
without-one false r x R cs ps h k = ap (λ z. z ++ R) h ∙ ap (λ z. raw_text cs ++ z) k

without-tokens : (cs : List Cell) (w : List ℕ) (start : ℕ) (t : List ℕ) (done k end : ℕ) (F G : List Cell) (ts : List (Token Cell)) (A P : List Cell) → IsCut cs start t done k end F G ts A P
    → without_words cs start t w done (word_token_ranges k ts) end ≡ new_bytes (removed_tokens w G ts)
without-tokens cs w start t done k end F G [] A P C =
    let s : slice_range cs done end ≡ G =
    ap (λ z. slice_range z done end) C.cells_are ∙ slice-at done end F G A C.done_is (omega (arith, C.end_is)) in
    ap raw_text s ∙ sym (append-nil (raw_text G))
without-tokens cs w start t done k end F G (Gap u ∷ ts) A P C = without-tokens cs w start t done (k + length u) end F (G ++ u) ts A (P ++ u) (cut-gap cs start t done k end F G u ts A P C)
without-tokens cs w start t done k end F G (Word x ∷ ts) A P C =
    let X = concat x in
    let e = k + length X in
    let N = cut-word cs start t done k end F G x ts A P C in
    let rest : without_words cs start t w (start + e) (word_token_ranges e ts) end ≡ new_bytes (removed_tokens w [] ts) =
    without-tokens cs w start t (start + e) e end (F ++ (G ++ X)) [] ts A (P ++ X) N.rest in
    ap (λ z. (if bytes_eq z w then [] else raw_between cs done (start + e)) ++ without_words cs start t w (start + e) (word_token_ranges e ts) end) N.text_is
    ∙ without-one (is_word_of w x) (raw_between cs done (start + e)) [] _ (G ++ X) (removed_tokens w [] ts) N.led rest

-- the bytes of a part without a word, by the ranges of its words, are those of the pieces that take it out
pub part-without : (cs : List Cell) (w : List ℕ) (s e : ℕ) (b p : List (List Cell)) (F A : List Cell) → IsPart cs s e b p → cs ≡ F ++ (concat p ++ A) → s ≡ length F → e ≡ length F + width p
    → without_words cs s (text_at (joined_text cs) (record { start = s; end = e })) w s (word_ranges (text_at (joined_text cs) (record { start = s; end = e }))) e
    ≡ new_bytes (removed_tokens w [] (tokens joined_byte p))
part-without cs w s e b p F A h whole offset end =
    let t = text_at (joined_text cs) (record { start = s; end = e }) in
    ap (λ z. without_words cs s t w s z e) (part-ranges cs s e b p h)
    ∙ without-tokens cs w s t s 0 e F [] (tokens joined_byte p) A [] (part-cut cs s e b p F A h whole offset end)

-- the words of a part
pub part-words : (cs : List Cell) (s e : ℕ) (b p : List (List Cell)) → IsPart cs s e b p → words_in (text_at (joined_text cs) (record { start = s; end = e })) ≡ word_texts joined_byte p
part-words cs s e b p h = sym (text_words-words (text_at (joined_text cs) (record { start = s; end = e }))) ∙ h.words_are

-- the ranges of a text's words rise within it
pub text-rises : (t : List ℕ) → AreRising 0 (length t) (word_ranges t)
text-rises t =
    let n : 0 + length (token_text (tokens itself (units itself t))) ≡ length t = omega (arith, ap length (token_text-tokens itself (units itself t) ∙ concat-units itself t)) in
    subst (λ n. AreRising 0 n (word_ranges t)) n (ranges-rise 0 (tokens itself (units itself t)))

-- ---- walks over the words of a part

pub part-length : {A : Type 0} (t : List A) (s e : ℕ) → s ≤ e → e ≤ length t → length (slice_range t s e) ≡ e - s
part-length t s e h k = omega (arith, length-take (e - s) (drop s t), length-drop s t, h, k)

pub walk-from : (t : List ℕ) (s : Span) (it : List Span) → s.start ≤ s.end → s.end ≤ length t → it ≡ word_ranges (text_at t s) → AreRising 0 (s.end - s.start) it
walk-from t s it h k e = subst (λ z. AreRising 0 (s.end - s.start) z) (sym e) (subst (λ n. AreRising 0 n (word_ranges (text_at t s))) (part-length t s.start s.end h k) (text-rises (text_at t s)))
