-- The words of a value that stay, by the ranges of the words: their bytes are those of the pieces of the value.
use Rattle.std.proofs.Common.{◌≡◌, refl, sym, ap, ◌∙◌, ℕ, ◌+◌, List, [], ◌∷◌, ◌++◌, length, Bool, true, false, not, if◌then◌else◌}
use Rattle.std.specs.Str.{bytes_eq}
use Rattle.std.proofs.lemmas.List.{append-nil}
use Rattle.mk_lines.specs.Lists.{concat}
use Rattle.mk_lines.proofs.on_lists.ListLemmas.{concat-append}
use Rattle.mk_lines.specs.Cells.{Cell, joined_byte, joined_text, raw_text}
use Rattle.mk_lines.specs.Pieces.{Piece, Keep, Replace, new_bytes}
use Rattle.mk_lines.specs.Words.{Token, Gap, Word, tokens}
use Rattle.mk_lines.specs.Ranges.{text_at, word_token_ranges, word_ranges}
use Rattle.mk_lines.specs.declared.split.Span.{Span}
use Rattle.mk_class.specs.ListTests.{is_empty}
use Rattle.mk_class.specs.LocatedClasses.{width}
use Rattle.mk_class.specs.PartOffsets.{IsPart}
use Rattle.mk_edit_language.specs.WordPieces.{is_word_of}
use Rattle.mk_edit_language.specs.ValueChanges.{LedWord, led_words_among, led_words, staying, pieces_after, first_gaps, remove_word_pieces}
use Rattle.mk_edit_parts.specs.WordCuts.{raw_between, staying_words, some_stays}
use Rattle.mk_edit_parts.proofs.on_prerequisites.WordRangeLemmas.{IsCut, cut-gap, cut-word, part-cut, part-ranges}

-- ---- the bytes

-- one word, before which a word stays
after-one : (b : Bool) (r R : List ℕ) (cs : List Cell) (ps : List Piece) → r ≡ raw_text cs → R ≡ new_bytes ps → (if b then R else r ++ R) ≡ new_bytes ((if b then Replace cs [] else Keep cs) ∷ ps)
after-one true r R cs ps h k = k
after-one false r R cs ps h k = ap (λ z. z ++ R) h ∙ ap (λ z. raw_text cs ++ z) k

-- one word, before which no word stays
first-one : (b : Bool) (r R S : List ℕ) (cs ds : List Cell) (ps qs : List Piece) → r ≡ raw_text ds → R ≡ new_bytes ps → S ≡ new_bytes qs
    → (if b then R else r ++ S) ≡ new_bytes (if b then Replace cs [] ∷ ps else Keep ds ∷ qs)
first-one true r R S cs ds ps qs h k i = k
first-one false r R S cs ds ps qs h k i = ap (λ z. z ++ S) h ∙ ap (λ z. raw_text ds ++ z) i

gap-joined : (G u : List Cell) (g : List (List Cell)) → G ≡ concat g → G ++ u ≡ concat (g ++ u ∷ [])
gap-joined G u g h = ap (λ z. z ++ u) h ∙ (ap (λ z. concat g ++ z) (sym (append-nil u)) ∙ sym (concat-append g (u ∷ [])))

-- words before which a word stays
staying-after : (cs : List Cell) (w : List ℕ) (start : ℕ) (t : List ℕ) (done k end : ℕ) (F G : List Cell) (g : List (List Cell)) (ts : List (Token Cell)) (A P : List Cell) → IsCut cs start t done k end F G ts A P → G ≡ concat g
    → staying_words cs start t w true done (word_token_ranges k ts) ≡ new_bytes (pieces_after w (led_words_among g ts))
staying-after cs w start t done k end F G g [] A P C h = refl
staying-after cs w start t done k end F G g (Gap u ∷ ts) A P C h =
    staying-after cs w start t done (k + length u) end F (G ++ u) (g ++ u ∷ []) ts A (P ++ u) (cut-gap cs start t done k end F G u ts A P C) (gap-joined G u g h)
staying-after cs w start t done k end F G g (Word x ∷ ts) A P C h =
    let X = concat x in
    let e = k + length X in
    let N = cut-word cs start t done k end F G x ts A P C in
    let R = staying_words cs start t w true (start + e) (word_token_ranges e ts) in
    let rest = staying-after cs w start t (start + e) e end (F ++ (G ++ X)) [] [] ts A (P ++ X) N.rest refl in
    let raw : raw_between cs done (start + e) ≡ raw_text (concat (g ++ x)) = N.led ∙ ap raw_text (ap (λ z. z ++ X) h ∙ sym (concat-append g x)) in
    ap (λ z. if bytes_eq z w then R else raw_between cs done (start + e) ++ R) N.text_is
    ∙ after-one (is_word_of w x) (raw_between cs done (start + e)) R (concat (g ++ x)) (pieces_after w (led_words_among [] ts)) raw rest

-- words before which no word stays
staying-first : (cs : List Cell) (w : List ℕ) (start : ℕ) (t : List ℕ) (done k end : ℕ) (F G : List Cell) (g : List (List Cell)) (ts : List (Token Cell)) (A P : List Cell) → IsCut cs start t done k end F G ts A P → G ≡ concat g
    → staying_words cs start t w false done (word_token_ranges k ts) ≡ new_bytes (remove_word_pieces w (led_words_among g ts))
staying-first cs w start t done k end F G g [] A P C h = refl
staying-first cs w start t done k end F G g (Gap u ∷ ts) A P C h =
    staying-first cs w start t done (k + length u) end F (G ++ u) (g ++ u ∷ []) ts A (P ++ u) (cut-gap cs start t done k end F G u ts A P C) (gap-joined G u g h)
staying-first cs w start t done k end F G g (Word x ∷ ts) A P C h =
    let X = concat x in
    let e = k + length X in
    let N = cut-word cs start t done k end F G x ts A P C in
    let D = F ++ (G ++ X) in
    let ls = led_words_among [] ts in
    let R = staying_words cs start t w false (start + e) (word_token_ranges e ts) in
    let S = staying_words cs start t w true (start + e) (word_token_ranges e ts) in
    let own = raw_between cs (start + k) (start + e) in
    ap (λ z. if bytes_eq z w then R else own ++ S) N.text_is
    ∙ first-one (is_word_of w x) own R S (concat (x ++ first_gaps ls)) X (remove_word_pieces w ls) (pieces_after w ls) N.own
    (staying-first cs w start t (start + e) e end D [] [] ts A (P ++ X) N.rest refl) (staying-after cs w start t (start + e) e end D [] [] ts A (P ++ X) N.rest refl)

-- ---- whether a word stays

stays-on : (t w : List ℕ) (ss : List Span) → some_stays t w true ss ≡ true
stays-on t w [] = refl
stays-on t w (s ∷ ss) = go (bytes_eq (text_at t s) w) (stays-on t w ss)
  where
    go : (b : Bool) → some_stays t w true ss ≡ true → (if b then some_stays t w true ss else some_stays t w true ss) ≡ true
    go true h = h
    go false h = h

stays-one : (b r q : Bool) (l : LedWord) (ls : List LedWord) → r ≡ not (is_empty ls) → q ≡ true → (if b then r else q) ≡ not (is_empty (if not b then l ∷ ls else ls))
stays-one true r q l ls h k = h
stays-one false r q l ls h k = k

stays-tokens : (cs : List Cell) (w : List ℕ) (start : ℕ) (t : List ℕ) (done k end : ℕ) (F G : List Cell) (g : List (List Cell)) (ts : List (Token Cell)) (A P : List Cell) → IsCut cs start t done k end F G ts A P
    → some_stays t w false (word_token_ranges k ts) ≡ not (is_empty (staying w (led_words_among g ts)))
stays-tokens cs w start t done k end F G g [] A P C = refl
stays-tokens cs w start t done k end F G g (Gap u ∷ ts) A P C =
    stays-tokens cs w start t done (k + length u) end F (G ++ u) (g ++ u ∷ []) ts A (P ++ u) (cut-gap cs start t done k end F G u ts A P C)
stays-tokens cs w start t done k end F G g (Word x ∷ ts) A P C =
    let X = concat x in
    let e = k + length X in
    let N = cut-word cs start t done k end F G x ts A P C in
    let ss = word_token_ranges e ts in
    ap (λ z. if bytes_eq z w then some_stays t w false ss else some_stays t w true ss) N.text_is
    ∙ stays-one (is_word_of w x) (some_stays t w false ss) (some_stays t w true ss) (record { gaps = g; word = x }) (staying w (led_words_among [] ts))
    (stays-tokens cs w start t (start + e) e end (F ++ (G ++ X)) [] [] ts A (P ++ X) N.rest) (stays-on t w ss)

-- ---- a value in a line

-- the bytes of the words of a value that stay, and whether there are any
pub record IsStaying (cs : List Cell) (s e : ℕ) (w : List ℕ) (p : List (List Cell)) : Type 0 where
  pub bytes_are : staying_words cs s (text_at (joined_text cs) (record { start = s; end = e })) w false s (word_ranges (text_at (joined_text cs) (record { start = s; end = e }))) ≡ new_bytes (remove_word_pieces w (led_words p))
  pub stays_is : some_stays (text_at (joined_text cs) (record { start = s; end = e })) w false (word_ranges (text_at (joined_text cs) (record { start = s; end = e }))) ≡ not (is_empty (staying w (led_words p)))

pub part-staying : (cs : List Cell) (w : List ℕ) (s e : ℕ) (b p : List (List Cell)) (F A : List Cell) → IsPart cs s e b p → cs ≡ F ++ (concat p ++ A) → s ≡ length F → e ≡ length F + width p → IsStaying cs s e w p
part-staying cs w s e b p F A h whole offset end =
    let t = text_at (joined_text cs) (record { start = s; end = e }) in
    let ts = tokens joined_byte p in
    let C = part-cut cs s e b p F A h whole offset end in
    record {
      bytes_are = ap (λ z. staying_words cs s t w false s z) (part-ranges cs s e b p h) ∙ staying-first cs w s t s 0 e F [] [] ts A [] C refl;
      stays_is = ap (λ z. some_stays t w false z) (part-ranges cs s e b p h) ∙ stays-tokens cs w s t s 0 e F [] [] ts A [] C;
    }

-- if no word stays, no bytes do
pub none-stays : (w : List ℕ) (ls : List LedWord) → is_empty (staying w ls) ≡ true → new_bytes (remove_word_pieces w ls) ≡ []
none-stays w [] h = refl
none-stays w (l ∷ ls) h = go (is_word_of w l.word) h (none-stays w ls)
  where
    go : (b : Bool) → is_empty (if not b then l ∷ staying w ls else staying w ls) ≡ true → (is_empty (staying w ls) ≡ true → new_bytes (remove_word_pieces w ls) ≡ [])
        → new_bytes (if b then Replace (concat (l.word ++ first_gaps ls)) [] ∷ remove_word_pieces w ls else Keep (concat l.word) ∷ pieces_after w ls) ≡ []
    go true e k = k e
    go false e k = absurd (cc)
