-- Words and gaps of a rule line's head, as tokens: what lists of them are as units and as cells.
use Rattle.std.proofs.Common.{◌≡◌, refl, sym, ap, ◌∙◌, subst, List, [], ◌∷◌, ◌++◌, Bool, true, false, not, append_assoc}
use Rattle.std.proofs.lemmas.List.{append-nil}
use Rattle.std.specs.Prelude.{◌⊎◌}
use mathlib.Core.Logic.{inl, inr}
use Rattle.mk_lines.specs.Lists.{concat}
use Rattle.mk_lines.proofs.on_lists.ListLemmas.{concat-append}
use Rattle.mk_lines.specs.Cells.{Cell, joined_byte}
use Rattle.mk_lines.specs.Words.{Token, Gap, Word, token_words, token_units, is_word_first, is_gap, IsWord, AreTokens}
use Rattle.mk_lines.proofs.on_units.TokenLemmas.{token_text}
use Rattle.mk_class.specs.ListTests.{first_passes, last_passes}
use Rattle.mk_class.proofs.on_assignments.AssignmentLineLemmas.{gap_cell-reset}
use Rattle.mk_edit_language.proofs.on_lines.HeadUnits.{AllAre, IsHeadUnit, IsSolid, BeginsSolid-before, EndsSolid-after, head_unit-solid}
use Rattle.mk_edit_language.proofs.on_lines.LineTails.{EndsAs, EndsEmpty, EndsAs-same}

-- ---- lists of tokens

pub token_text-append : (a b : List (Token Cell)) → token_text (a ++ b) ≡ token_text a ++ token_text b
token_text-append [] b = refl
token_text-append (Gap u ∷ a) b = ap (λ z. u ++ z) (token_text-append a b) ∙ sym (append_assoc u (token_text a) (token_text b))
token_text-append (Word w ∷ a) b = ap (λ z. concat w ++ z) (token_text-append a b) ∙ sym (append_assoc (concat w) (token_text a) (token_text b))

pub token_units-append : (a b : List (Token Cell)) → token_units (a ++ b) ≡ token_units a ++ token_units b
token_units-append [] b = refl
token_units-append (Gap u ∷ a) b = ap (λ z. u ∷ z) (token_units-append a b)
token_units-append (Word w ∷ a) b = ap (λ z. w ++ z) (token_units-append a b) ∙ sym (append_assoc w (token_units a) (token_units b))

-- the units of tokens, joined, are their text
pub concat-token_units : (ts : List (Token Cell)) → concat (token_units ts) ≡ token_text ts
concat-token_units [] = refl
concat-token_units (Gap u ∷ ts) = ap (λ z. u ++ z) (concat-token_units ts)
concat-token_units (Word w ∷ ts) = concat-append w (token_units ts) ∙ ap (λ z. concat w ++ z) (concat-token_units ts)

-- ---- gaps alone

-- a token that is a gap
abbrev pub IsGapToken : Token Cell → Type 0
IsGapToken (Gap u) = is_gap joined_byte u ≡ true
IsGapToken (Word w) = ⊥

-- tokens that are all gaps
abbrev pub AreGaps : List (Token Cell) → Type 0
AreGaps ts = AllAre IsGapToken ts

pub gaps-are_tokens : (g ts : List (Token Cell)) → AreGaps g → AreTokens joined_byte ts → AreTokens joined_byte (g ++ ts)
gaps-are_tokens [] ts h k = k
gaps-are_tokens (Gap u ∷ g) ts h k = (h.0, gaps-are_tokens g ts h.1 k)
gaps-are_tokens (Word w ∷ g) ts h k = absurd h.0

pub gaps-words : (g ts : List (Token Cell)) → AreGaps g → token_words (g ++ ts) ≡ token_words ts
gaps-words [] ts h = refl
gaps-words (Gap u ∷ g) ts h = gaps-words g ts h.1
gaps-words (Word w ∷ g) ts h = absurd h.0

pub gaps-no_word_first : (g : List (Token Cell)) → AreGaps g → is_word_first g ≡ false
gaps-no_word_first [] h = refl
gaps-no_word_first (Gap u ∷ g) h = refl
gaps-no_word_first (Word w ∷ g) h = absurd h.0

-- a unit that is a gap, before any cells, ends as it did
pub gap-ends : (u : List Cell) (D : List Cell) → is_gap joined_byte u ≡ true → EndsAs (u ++ D) (u ++ D)
gap-ends [] D h = cc
gap-ends (c ∷ []) D h = EndsAs-same c D (gap_cell-reset c h)
gap-ends (c ∷ d ∷ u) D h = cc

pub gaps-end : (g : List (Token Cell)) → AreGaps g → EndsAs (token_text g) (token_text g)
gaps-end [] h = EndsEmpty refl
gaps-end (Gap u ∷ g) h = gap-ends u (token_text g) h.0
gaps-end (Word w ∷ g) h = absurd h.0

-- ---- the cells of a word

-- a word of units that are no gaps begins and ends in bytes that join whatever stands beside it
pub word-solid : (w : List (List Cell)) → IsWord joined_byte w → AllAre IsHeadUnit w → IsSolid (concat w)
word-solid [] h a = absurd h
word-solid (u ∷ []) h a = subst IsSolid (sym (append-nil u)) (head_unit-solid u a.0 h)
word-solid (u ∷ v ∷ w) h a =
    let s = head_unit-solid u a.0 h.0 in
    let r = word-solid (v ∷ w) h.1 a.1 in
    record { begins = BeginsSolid-before u (concat (v ∷ w)) s.begins; ends = EndsSolid-after u (concat (v ∷ w)) r.ends }

-- the last unit of a word is no gap
pub word-no_gap_last : (w : List (List Cell)) → IsWord joined_byte w → last_passes (is_gap joined_byte) w ≡ false
word-no_gap_last [] h = absurd h
word-no_gap_last (u ∷ []) h = h
word-no_gap_last (u ∷ v ∷ w) h = word-no_gap_last (v ∷ w) h.1

-- ---- last elements

pub last-more : {A : Type 0} (p : A → Bool) (a : List A) (x : A) (b : List A) → last_passes p (a ++ x ∷ b) ≡ last_passes p (x ∷ b)
last-more p [] x b = refl
last-more p (y ∷ []) x b = refl
last-more p (y ∷ z ∷ a) x b = last-more p (z ∷ a) x b

pub last-append : {A : Type 0} (p : A → Bool) (a b : List A) → last_passes p b ≡ true → last_passes p (a ++ b) ≡ true
last-append p a [] h = cc
last-append p a (x ∷ b) h = last-more p a x b ∙ h

-- the last of two lists, where the last of the first does not pass
pub last-of_second : {A : Type 0} (p : A → Bool) (a b : List A) → last_passes p a ≡ false → last_passes p (a ++ b) ≡ true → last_passes p b ≡ true
last-of_second p a [] h k = absurd (let e : false ≡ true = sym h ∙ (ap (last_passes p) (sym (append-nil a)) ∙ k) in cc)
last-of_second p a (x ∷ b) h k = sym (last-more p a x b) ∙ k

-- units whose last is no word's end: there are none, or the last is a gap
pub last-gap : (us : List (List Cell)) → last_passes (λ u. not (is_gap joined_byte u)) us ≡ false → (us ≡ []) ⊎ (last_passes (is_gap joined_byte) us ≡ true)
last-gap [] h = inl refl
last-gap (u ∷ []) h = inr (go (is_gap joined_byte u) h)
  where
    go : (c : Bool) → not c ≡ false → c ≡ true
    go true e = refl
    go false e = cc
last-gap (u ∷ v ∷ us) h = go (last-gap (v ∷ us) h)
  where
    go : (v ∷ us ≡ []) ⊎ (last_passes (is_gap joined_byte) (v ∷ us) ≡ true) → (u ∷ v ∷ us ≡ []) ⊎ (last_passes (is_gap joined_byte) (v ∷ us) ≡ true)
    go (inl e) = absurd (cc)
    go (inr e) = inr e

-- if the last unit is a gap, no word ends there
pub gap-last : (us : List (List Cell)) → last_passes (is_gap joined_byte) us ≡ true → last_passes (λ u. not (is_gap joined_byte u)) us ≡ false
gap-last [] h = cc
gap-last (u ∷ []) h = ap not h
gap-last (u ∷ v ∷ us) h = gap-last (v ∷ us) h

-- ---- first elements

-- whether the first unit is no gap, told by the tokens
pub first-word : (ts : List (Token Cell)) → AreTokens joined_byte ts → first_passes (λ u. not (is_gap joined_byte u)) (token_units ts) ≡ is_word_first ts
first-word [] h = refl
first-word (Gap u ∷ ts) h = ap not h.0
first-word (Word [] ∷ ts) h = absurd h.0
first-word (Word (u ∷ []) ∷ ts) h = ap not h.0
first-word (Word (u ∷ v ∷ w) ∷ ts) h = ap not h.0.0
