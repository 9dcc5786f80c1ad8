-- A rename of targets makes no assignment of a line that is none: if what stands before the first `=` is no front of an
-- assignment, it is none after the rename.
use Rattle.std.proofs.Common.{◌≡◌, refl, sym, ap, ◌∙◌, ℕ, List, [], ◌∷◌, ◌++◌, map, Bool, true, false, not, ◌||◌, cond, Option, Some, None, append_assoc}
use Rattle.std.specs.Str.{bytes_eq}
use Rattle.std.proofs.lemmas.List.{append-nil, map-append}
use Rattle.std.proofs.lemmas.Bool.{or_parts, not-true}
use Rattle.std.specs.Prelude.{codes}
use Rattle.mk_lines.specs.Lists.{Each}
use Rattle.mk_lines.specs.Cells.{Cell, joined_byte}
use Rattle.mk_lines.specs.Words.{Token, Gap, Word, tokens, before_tokens, token_units, is_word_first, is_gap, IsWord, AreTokens}
use Rattle.mk_lines.proofs.on_units.TokenLemmas.{tokens-word, token_units-tokens}
use Rattle.mk_class.specs.ListTests.{until, from, is_empty}
use Rattle.mk_class.specs.Texts.{unit_text}
use Rattle.mk_class.specs.Symbols.{Symbol, symbol, is_colon_symbol}
use Rattle.mk_class.specs.Symbols.Symbol.{Hash, Colon, Semicolon, Equals, Plus, Question, Exclamation, Bar, Ampersand, NoSymbol}
use Rattle.mk_class.proofs.on_symbols.SymbolLemmas.{gap-no_symbol, symbol-no_gap}
use Rattle.mk_class.specs.Assignments.{ends_name_by, after_blanks, blanks, modifier_of}
use Rattle.mk_class.specs.AssignmentsAtEquals.{Front, flavor_before_equals, ends_name_before_equals, front_by, definition_front, front_after_units, front_after_modifier, front_of}
use Rattle.mk_class.proofs.on_assignments.AssignmentEqualsLemmas.{or_front, front_of-word}
use Rattle.mk_class.specs.declared.assignment.Flavor.{Flavor}
use Rattle.mk_class.specs.declared.assignment.Modifier.{Modifier}
use Rattle.mk_edit_language.specs.WordPieces.{is_word_of}
use Rattle.mk_edit_language.proofs.on_lines.DirectiveWords.{is_modifier, colon-no_modifier, word-glued, glued-colon, not_reserved-keyword}
use Rattle.mk_edit_language.proofs.on_lines.HeaderParts.{colons-begin}
use Rattle.mk_edit_language.proofs.on_prerequisites.NewWords.{cell_units, cell_units-text}
use Rattle.mk_edit_language.proofs.on_renames.WordsRenamed.{tokens_renamed}
use Rattle.mk_edit_language.proofs.on_renames.RenamedHeaders.{IsNewTarget}
use Rattle.mk_class.specs.declared.rule.Separator.TheVariants.{SingleColon}

-- ---- operators

-- no operator has a gap before its `=`
flavor-gap : (s r : List Symbol) → flavor_before_equals (s ++ NoSymbol ∷ r) ≡ None
flavor-gap [] r = refl
flavor-gap (Hash ∷ s) r = refl
flavor-gap (Colon ∷ []) r = refl
flavor-gap (Colon ∷ Hash ∷ s) r = refl
flavor-gap (Colon ∷ Colon ∷ []) r = refl
flavor-gap (Colon ∷ Colon ∷ Hash ∷ s) r = refl
flavor-gap (Colon ∷ Colon ∷ Colon ∷ []) r = refl
flavor-gap (Colon ∷ Colon ∷ Colon ∷ d ∷ s) r = refl
flavor-gap (Colon ∷ Colon ∷ Semicolon ∷ s) r = refl
flavor-gap (Colon ∷ Colon ∷ Equals ∷ s) r = refl
flavor-gap (Colon ∷ Colon ∷ Plus ∷ s) r = refl
flavor-gap (Colon ∷ Colon ∷ Question ∷ s) r = refl
flavor-gap (Colon ∷ Colon ∷ Exclamation ∷ s) r = refl
flavor-gap (Colon ∷ Colon ∷ Bar ∷ s) r = refl
flavor-gap (Colon ∷ Colon ∷ Ampersand ∷ s) r = refl
flavor-gap (Colon ∷ Colon ∷ NoSymbol ∷ s) r = refl
flavor-gap (Colon ∷ Semicolon ∷ s) r = refl
flavor-gap (Colon ∷ Equals ∷ s) r = refl
flavor-gap (Colon ∷ Plus ∷ s) r = refl
flavor-gap (Colon ∷ Question ∷ s) r = refl
flavor-gap (Colon ∷ Exclamation ∷ s) r = refl
flavor-gap (Colon ∷ Bar ∷ s) r = refl
flavor-gap (Colon ∷ Ampersand ∷ s) r = refl
flavor-gap (Colon ∷ NoSymbol ∷ s) r = refl
flavor-gap (Semicolon ∷ s) r = refl
flavor-gap (Equals ∷ s) r = refl
flavor-gap (Plus ∷ []) r = refl
flavor-gap (Plus ∷ b ∷ s) r = refl
flavor-gap (Question ∷ []) r = refl
flavor-gap (Question ∷ b ∷ s) r = refl
flavor-gap (Exclamation ∷ []) r = refl
flavor-gap (Exclamation ∷ b ∷ s) r = refl
flavor-gap (Bar ∷ s) r = refl
flavor-gap (Ampersand ∷ s) r = refl
flavor-gap (NoSymbol ∷ s) r = refl

-- no operator of two symbols or more begins with any symbol except `:`
flavor-two : (x y : Symbol) (s : List Symbol) → is_colon_symbol x ≡ false → flavor_before_equals (x ∷ y ∷ s) ≡ None
flavor-two Hash y s h = refl
flavor-two Colon y s h = cc
flavor-two Semicolon y s h = refl
flavor-two Equals y s h = refl
flavor-two Plus y s h = refl
flavor-two Question y s h = refl
flavor-two Exclamation y s h = refl
flavor-two Bar y s h = refl
flavor-two Ampersand y s h = refl
flavor-two NoSymbol y s h = refl

-- ---- words before an operator

-- whether a unit does not end a name, where another follows it
abbrev pub is_name_unit : List Cell → Bool
is_name_unit u = not (ends_name_by (symbol joined_byte u) false)

abbrev front_gap : List (List Cell) → List Symbol
front_gap us = map (symbol joined_byte) (after_blanks joined_byte us)

word-after_blanks : (w X : List (List Cell)) → IsWord joined_byte w → after_blanks joined_byte (w ++ X) ≡ w ++ X
word-after_blanks [] X h = absurd h
word-after_blanks (u ∷ []) X h = ap (λ z. cond z (after_blanks joined_byte X) (u ∷ X)) h
word-after_blanks (u ∷ v ∷ w) X h = ap (λ z. cond z (after_blanks joined_byte (v ∷ (w ++ X))) (u ∷ v ∷ (w ++ X))) h.0

word-blanks : (w X : List (List Cell)) → IsWord joined_byte w → blanks joined_byte (w ++ X) ≡ []
word-blanks [] X h = absurd h
word-blanks (u ∷ []) X h = ap (λ z. cond z (u ∷ blanks joined_byte X) []) h
word-blanks (u ∷ v ∷ w) X h = ap (λ z. cond z (u ∷ blanks joined_byte (v ∷ (w ++ X))) []) h.0

-- a front by its name and the symbols of its operator
front-parts : (w X : List (List Cell)) → IsWord joined_byte w
    → definition_front joined_byte (w ++ X) ≡ front_by joined_byte (flavor_before_equals (front_gap (from (ends_name_before_equals joined_byte) (w ++ X)))) [] (until (ends_name_before_equals joined_byte) (w ++ X)) (from (ends_name_before_equals joined_byte) (w ++ X))
front-parts w X h =
    ap (λ z. front_by joined_byte (flavor_before_equals (front_gap (from (ends_name_before_equals joined_byte) z))) (blanks joined_byte (w ++ X)) (until (ends_name_before_equals joined_byte) z) (from (ends_name_before_equals joined_byte) z)) (word-after_blanks w X h)
    ∙ ap (λ z. front_by joined_byte (flavor_before_equals (front_gap (from (ends_name_before_equals joined_byte) (w ++ X)))) z (until (ends_name_before_equals joined_byte) (w ++ X)) (from (ends_name_before_equals joined_byte) (w ++ X))) (word-blanks w X h)

-- if one operator makes no front, another makes none that is missing whenever the first is
no_front : (f g : Option Flavor) (b m r r' : List (List Cell)) → front_by joined_byte f b m r ≡ None → (f ≡ None → g ≡ None) → front_by joined_byte g b m r' ≡ None
no_front None g b m r r' h k = ap (λ z. front_by joined_byte z b m r') (k refl)
no_front (Some f) None b m r r' h k = refl
no_front (Some f) (Some g) b [] r r' h k = refl
no_front (Some f) (Some g) b (u ∷ m) r r' h k = absurd (cc)

-- if there is no front, no operator follows a name that is not empty
no_flavor : (f : Option Flavor) (b : List (List Cell)) (u : List Cell) (m r : List (List Cell)) → front_by joined_byte f b (u ∷ m) r ≡ None → f ≡ None
no_flavor None b u m r h = refl
no_flavor (Some f) b u m r h = absurd (cc)

some_follow : (w : List (List Cell)) (g : List Cell) (X : List (List Cell)) → is_empty (w ++ g ∷ X) ≡ false
some_follow [] g X = refl
some_follow (u ∷ w) g X = refl

ends-same : (u : List Cell) (w : List (List Cell)) (g : List Cell) (X : List (List Cell)) → ends_name_before_equals joined_byte (u ∷ (w ++ g ∷ X)) ≡ (is_gap joined_byte u || ends_name_by (symbol joined_byte u) false)
ends-same u w g X = ap (λ z. is_gap joined_byte u || ends_name_by (symbol joined_byte u) z) (some_follow w g X)

-- a name that ends in a word or after it is the same whatever follows the gap
until-same : (w : List (List Cell)) (g : List Cell) (X X' : List (List Cell)) → is_gap joined_byte g ≡ true
    → until (ends_name_before_equals joined_byte) (w ++ g ∷ X) ≡ until (ends_name_before_equals joined_byte) (w ++ g ∷ X')
until-same [] g X X' h = rw h refl
until-same (u ∷ w) g X X' h = rw (ends-same u w g X, ends-same u w g X', until-same w g X X' h) refl

-- no operator follows such a name with other units after the gap, if these are an operator only if the old ones are
from-none : (w : List (List Cell)) (g : List Cell) (X X' : List (List Cell)) → is_gap joined_byte g ≡ true → Each (λ u. not (is_gap joined_byte u)) w
    → (flavor_before_equals (front_gap X) ≡ None → flavor_before_equals (front_gap X') ≡ None)
    → flavor_before_equals (front_gap (from (ends_name_before_equals joined_byte) (w ++ g ∷ X))) ≡ None → flavor_before_equals (front_gap (from (ends_name_before_equals joined_byte) (w ++ g ∷ X'))) ≡ None
from-none [] g X X' h n k e =
    let start : (Y : List (List Cell)) → front_gap (from (ends_name_before_equals joined_byte) (g ∷ Y)) ≡ front_gap Y =
    λ Y. ap (λ z. front_gap (cond (z || ends_name_by (symbol joined_byte g) (is_empty Y)) (g ∷ Y) (from (ends_name_before_equals joined_byte) Y))) h ∙ ap (λ z. map (symbol joined_byte) (cond z (after_blanks joined_byte Y) (g ∷ Y))) h in
    ap flavor_before_equals (start X') ∙ k (ap flavor_before_equals (sym (start X)) ∙ e)
from-none (u ∷ w) g X X' h n k e = go (ends_name_by (symbol joined_byte u) false) refl (λ q. from-none w g X X' h n.1 k q)
  where
    no_gap : is_gap joined_byte u ≡ false
    no_gap = not-true (is_gap joined_byte u) n.0

    at : (Y : List (List Cell)) (c : Bool) → ends_name_by (symbol joined_byte u) false ≡ c
        → from (ends_name_before_equals joined_byte) ((u ∷ w) ++ g ∷ Y) ≡ cond c (u ∷ (w ++ g ∷ Y)) (from (ends_name_before_equals joined_byte) (w ++ g ∷ Y))
    at Y c q = rw (ends-same u w g Y, no_gap, q) refl

    stuck : (Y : List (List Cell)) → flavor_before_equals (front_gap (u ∷ (w ++ g ∷ Y))) ≡ None
    stuck Y =
        ap (λ z. flavor_before_equals (map (symbol joined_byte) (cond z (after_blanks joined_byte (w ++ g ∷ Y)) (u ∷ (w ++ g ∷ Y))))) no_gap
        ∙ (ap (λ z. flavor_before_equals (symbol joined_byte u ∷ z)) (map-append (symbol joined_byte) w (g ∷ Y) ∙ ap (λ z. map (symbol joined_byte) w ++ z ∷ map (symbol joined_byte) Y) (gap-no_symbol joined_byte g h))
        ∙ flavor-gap (symbol joined_byte u ∷ map (symbol joined_byte) w) (map (symbol joined_byte) Y))

    go : (c : Bool) → ends_name_by (symbol joined_byte u) false ≡ c
        → (flavor_before_equals (front_gap (from (ends_name_before_equals joined_byte) (w ++ g ∷ X))) ≡ None → flavor_before_equals (front_gap (from (ends_name_before_equals joined_byte) (w ++ g ∷ X'))) ≡ None)
        → flavor_before_equals (front_gap (from (ends_name_before_equals joined_byte) ((u ∷ w) ++ g ∷ X'))) ≡ None
    go true q i = ap (λ z. flavor_before_equals (front_gap z)) (at X' true q) ∙ stuck X'
    go false q i = ap (λ z. flavor_before_equals (front_gap z)) (at X' false q) ∙ i (ap (λ z. flavor_before_equals (front_gap z)) (sym (at X false q)) ∙ e)

no_gaps : (w : List (List Cell)) → IsWord joined_byte w → Each (λ u. not (is_gap joined_byte u)) w
no_gaps [] h = absurd h
no_gaps (u ∷ []) h = (ap not h, tt)
no_gaps (u ∷ v ∷ w) h = (ap not h.0, no_gaps (v ∷ w) h.1)

-- the name in such units is the word, if a name ends after the word
name-whole : (w : List (List Cell)) (z : List Cell) (Z : List (List Cell)) → Each (λ u. not (is_gap joined_byte u)) w → Each is_name_unit w → ends_name_before_equals joined_byte (z ∷ Z) ≡ true
    → (until (ends_name_before_equals joined_byte) (w ++ z ∷ Z) ≡ w) × (from (ends_name_before_equals joined_byte) (w ++ z ∷ Z) ≡ z ∷ Z)
name-whole [] z Z n b h = (ap (λ c. cond c [] (z ∷ until (ends_name_before_equals joined_byte) Z)) h, ap (λ c. cond c (z ∷ Z) (from (ends_name_before_equals joined_byte) Z)) h)
name-whole (u ∷ w) z Z n b h =
    let r = name-whole w z Z n.1 b.1 h in
    let e : ends_name_before_equals joined_byte (u ∷ (w ++ z ∷ Z)) ≡ false = ends-same u w z Z ∙ (rw (not-true _ n.0, not-true _ b.0) refl) in (
      ap (λ c. cond c [] (u ∷ until (ends_name_before_equals joined_byte) (w ++ z ∷ Z))) e ∙ ap (λ x. u ∷ x) r.0,
      ap (λ c. cond c (u ∷ (w ++ z ∷ Z)) (from (ends_name_before_equals joined_byte) (w ++ z ∷ Z))) e ∙ r.1,
    )

-- a front whose name is a word of such units
front-whole : (w : List (List Cell)) (z : List Cell) (Z : List (List Cell)) → IsWord joined_byte w → Each is_name_unit w → ends_name_before_equals joined_byte (z ∷ Z) ≡ true
    → definition_front joined_byte (w ++ z ∷ Z) ≡ front_by joined_byte (flavor_before_equals (front_gap (z ∷ Z))) [] w (z ∷ Z)
front-whole w z Z h b e =
    let p = name-whole w z Z (no_gaps w h) b e in
    front-parts w (z ∷ Z) h
    ∙ (ap (λ x. front_by joined_byte (flavor_before_equals (front_gap (from (ends_name_before_equals joined_byte) (w ++ z ∷ Z)))) [] x (from (ends_name_before_equals joined_byte) (w ++ z ∷ Z))) p.0
    ∙ ap (λ x. front_by joined_byte (flavor_before_equals (front_gap x)) [] w x) p.1)

-- another such word in the place of the first makes no front if the first made none, provided that what follows is an operator
-- only if it was one before
word-front : (w w' : List (List Cell)) (z : List Cell) (Z Z' : List (List Cell)) → IsWord joined_byte w → IsWord joined_byte w' → Each is_name_unit w → Each is_name_unit w'
    → ends_name_before_equals joined_byte (z ∷ Z) ≡ true → ends_name_before_equals joined_byte (z ∷ Z') ≡ true
    → (flavor_before_equals (front_gap (z ∷ Z)) ≡ None → flavor_before_equals (front_gap (z ∷ Z')) ≡ None)
    → definition_front joined_byte (w ++ z ∷ Z) ≡ None → definition_front joined_byte (w' ++ z ∷ Z') ≡ None
word-front [] w' z Z Z' h h' b b' e e' k d = absurd h
word-front (u ∷ w) w' z Z Z' h h' b b' e e' k d =
    let f = no_flavor (flavor_before_equals (front_gap (z ∷ Z))) [] u w (z ∷ Z) (sym (front-whole (u ∷ w) z Z h b e) ∙ d) in
    front-whole w' z Z' h' b' e' ∙ ap (λ x. front_by joined_byte x [] w' (z ∷ Z')) (k f)

-- ---- words renamed

-- a word that is no modifier
no_modifier : (w : List (List Cell)) → is_modifier (unit_text joined_byte w) ≡ false → modifier_of joined_byte w ≡ None
no_modifier w h =
    let a = or_parts (bytes_eq (unit_text joined_byte w) (codes "override")) _ h in
    let b = or_parts (bytes_eq (unit_text joined_byte w) (codes "export")) _ a.1 in
    let c = or_parts (bytes_eq (unit_text joined_byte w) (codes "private")) _ b.1 in
    rw (a.0, b.0, c.0) refl

-- what follows the last of some targets, where that is a word, is a `:`
abbrev pub EndsAtColon : List (Token Cell) → List (List Cell) → Type 0
EndsAtColon [] R = Unit {0}
EndsAtColon (Gap u ∷ ts) R = EndsAtColon ts R
EndsAtColon (Word w ∷ []) R = (c : List Cell) × (r : List (List Cell)) × (R ≡ c ∷ r) × (symbol joined_byte c ≡ Colon)
EndsAtColon (Word w ∷ t ∷ ts) R = EndsAtColon (t ∷ ts) R

-- the words that are renamed have units that end no name
abbrev pub OldAreNames : (old : List ℕ) → List (Token Cell) → Type 0
OldAreNames o [] = Unit {0}
OldAreNames o (Gap u ∷ ts) = OldAreNames o ts
OldAreNames o (Word w ∷ ts) = (is_word_of o w ≡ true → Each is_name_unit w) × OldAreNames o ts

inner : (us : List (List Cell)) (o : Option (Front Cell)) → front_after_units joined_byte us o ≡ None → o ≡ None
inner us None h = refl
inner us (Some f) h = absurd (cc)

or-none : (d : Option (Front Cell)) (m : Option Modifier) (w : List (List Cell)) (f : Option (Front Cell)) → or_front joined_byte d m w f ≡ None → (d ≡ None) × ((x : Modifier) → m ≡ Some x → f ≡ None)
or-none (Some x) m w f h = absurd (cc)
or-none None None w f h = (refl, λ x e. absurd (cc))
or-none None (Some x) w None h = (refl, λ y e. refl)
or-none None (Some x) w (Some f) h = absurd (cc)

none-or : (d : Option (Front Cell)) (m : Option Modifier) (w : List (List Cell)) (f : Option (Front Cell)) → d ≡ None → ((x : Modifier) → m ≡ Some x → f ≡ None) → or_front joined_byte d m w f ≡ None
none-or d None w f h k = ap (λ z. or_front joined_byte z None w f) h
none-or d (Some x) w f h k = ap (λ z. or_front joined_byte z (Some x) w f) h ∙ ap (front_after_modifier joined_byte x w) (k x refl)

module _ (o n : List ℕ) (new : IsNewTarget o n) (names : Each is_name_unit (cell_units n)) where
  renamed-name : (w : List (List Cell)) (c : Bool) → IsWord joined_byte w → IsWord joined_byte (cond c (cell_units n) w)
  renamed-name w true h = new.word.word
  renamed-name w false h = h

  -- what stands after blanks is no operator where it was none
  operator-none : (ts : List (Token Cell)) (R : List (List Cell)) → AreTokens joined_byte ts → EndsAtColon ts R → flavor_before_equals (front_gap (token_units ts ++ R)) ≡ None
      → flavor_before_equals (front_gap (token_units (tokens_renamed o n ts) ++ R)) ≡ None
  operator-none [] R a s h = h
  operator-none (Gap u ∷ ts) R a s h =
      let start : (Y : List (List Cell)) → front_gap (u ∷ Y) ≡ front_gap Y = λ Y. ap (λ z. map (symbol joined_byte) (cond z (after_blanks joined_byte Y) (u ∷ Y))) a.0 in
      ap flavor_before_equals (start (token_units (tokens_renamed o n ts) ++ R)) ∙ operator-none ts R a.1 s (ap flavor_before_equals (sym (start (token_units ts ++ R))) ∙ h)
  operator-none (Word w ∷ []) R a s h = go (is_word_of o w)
    where
      first : (x : List (List Cell)) → IsWord joined_byte x → Each is_name_unit x → (c : List Cell) (r : List (List Cell)) → R ≡ c ∷ r → flavor_before_equals (front_gap ((x ++ []) ++ R)) ≡ None
      first [] i b c r e = absurd i
      first (u ∷ x) i b c r e =
          ap (λ z. flavor_before_equals (front_gap (z ++ R))) (append-nil (u ∷ x))
          ∙ (ap (λ z. flavor_before_equals (front_gap ((u ∷ x) ++ z))) e
          ∙ (ap (λ z. flavor_before_equals (map (symbol joined_byte) z)) (word-after_blanks (u ∷ x) (c ∷ r) i) ∙ two x))
        where
          no_colon : (s : Symbol) → not (ends_name_by s false) ≡ true → is_colon_symbol s ≡ false
          no_colon Hash k = refl
          no_colon Colon k = cc
          no_colon Semicolon k = cc
          no_colon Equals k = cc
          no_colon Plus k = refl
          no_colon Question k = refl
          no_colon Exclamation k = refl
          no_colon Bar k = refl
          no_colon Ampersand k = refl
          no_colon NoSymbol k = refl

          two : (x : List (List Cell)) → flavor_before_equals (symbol joined_byte u ∷ map (symbol joined_byte) (x ++ c ∷ r)) ≡ None
          two [] = flavor-two (symbol joined_byte u) (symbol joined_byte c) (map (symbol joined_byte) r) (no_colon (symbol joined_byte u) b.0)
          two (v ∷ x) = flavor-two (symbol joined_byte u) (symbol joined_byte v) (map (symbol joined_byte) (x ++ c ∷ r)) (no_colon (symbol joined_byte u) b.0)

      go : (c : Bool) → flavor_before_equals (front_gap ((cond c (cell_units n) w ++ []) ++ R)) ≡ None
      go true = first (cell_units n) new.word.word names s.0 s.1 s.2
      go false = h
  operator-none (Word w ∷ Gap g ∷ ts) R a s h = go (is_word_of o w)
    where
      stuck : (x : List (List Cell)) → IsWord joined_byte x → flavor_before_equals (front_gap ((x ++ g ∷ token_units (tokens_renamed o n ts)) ++ R)) ≡ None
      stuck x i =
          ap (λ z. flavor_before_equals (front_gap z)) (append_assoc x (g ∷ token_units (tokens_renamed o n ts)) R)
          ∙ (ap (λ z. flavor_before_equals (map (symbol joined_byte) z)) (word-after_blanks x (g ∷ (token_units (tokens_renamed o n ts) ++ R)) i)
          ∙ (ap flavor_before_equals (map-append (symbol joined_byte) x (g ∷ (token_units (tokens_renamed o n ts) ++ R)) ∙ ap (λ z. map (symbol joined_byte) x ++ z ∷ map (symbol joined_byte) (token_units (tokens_renamed o n ts) ++ R)) (gap-no_symbol joined_byte g a.2.0))
          ∙ flavor-gap (map (symbol joined_byte) x) (map (symbol joined_byte) (token_units (tokens_renamed o n ts) ++ R))))

      go : (c : Bool) → flavor_before_equals (front_gap ((cond c (cell_units n) w ++ g ∷ token_units (tokens_renamed o n ts)) ++ R)) ≡ None
      go c = stuck (cond c (cell_units n) w) (renamed-name w c a.0)
  operator-none (Word w ∷ Word v ∷ ts) R a s h = absurd (let e : true ≡ false = a.1 in cc)

  or-alone : (d : Option (Front Cell)) (w : List (List Cell)) (f : Option (Front Cell)) → or_front joined_byte d None w f ≡ d
  or-alone None w f = refl
  or-alone (Some x) w f = refl

  -- the front of a word directly before a `:`
  colon-front : (x : List (List Cell)) (c : List Cell) (r R : List (List Cell)) → R ≡ c ∷ r → symbol joined_byte c ≡ Colon → IsWord joined_byte x
      → front_of joined_byte (tokens joined_byte ((x ++ []) ++ R)) ≡ definition_front joined_byte (x ++ c ∷ r)
  colon-front x c r R e k i =
      let B = colons-begin (c ∷ []) r SingleColon (ap (λ z. z ∷ []) k) in
      let t = word-glued x (c ∷ r) B.word B.rest i B.is in
      let units : (x ++ B.word) ++ token_units B.rest ≡ x ++ c ∷ r = sym (ap token_units t) ∙ token_units-tokens joined_byte (x ++ c ∷ r) in
      ap (λ z. front_of joined_byte (tokens joined_byte (z ++ R))) (append-nil x)
      ∙ (ap (λ z. front_of joined_byte (tokens joined_byte (x ++ z))) e
      ∙ (ap (front_of joined_byte) t
      ∙ (front_of-word joined_byte (x ++ B.word) B.rest
      ∙ (ap (λ z. or_front joined_byte (definition_front joined_byte ((x ++ B.word) ++ token_units B.rest)) z (x ++ B.word) (front_of joined_byte B.rest)) (no_modifier (x ++ B.word) (colon-no_modifier (unit_text joined_byte (x ++ B.word)) (glued-colon x B.word B.colon)))
      ∙ (or-alone (definition_front joined_byte ((x ++ B.word) ++ token_units B.rest)) (x ++ B.word) (front_of joined_byte B.rest)
      ∙ ap (definition_front joined_byte) units)))))

  colon-ends : (c : List Cell) (r : List (List Cell)) → symbol joined_byte c ≡ Colon → ends_name_before_equals joined_byte (c ∷ r) ≡ true
  colon-ends c r k =
      let g : is_gap joined_byte c ≡ false = symbol-no_gap joined_byte c (λ e. let q : NoSymbol ≡ Colon = sym e ∙ k in cc) in
      rw (g, k) refl

  -- the front of a word before a gap
  gap-front : (x : List (List Cell)) (g : List Cell) (U R : List (List Cell)) → is_gap joined_byte g ≡ true → IsWord joined_byte x
      → front_of joined_byte (tokens joined_byte ((x ++ g ∷ U) ++ R)) ≡ or_front joined_byte (definition_front joined_byte (x ++ g ∷ (U ++ R))) (modifier_of joined_byte x) x (front_of joined_byte (tokens joined_byte (g ∷ (U ++ R))))
  gap-front x g U R h i =
      let X = g ∷ (U ++ R) in
      let t = tokens-word joined_byte x X (tokens joined_byte X) i refl (ap (λ z. is_word_first (before_tokens z g (tokens joined_byte (U ++ R)))) h) in
      ap (λ z. front_of joined_byte (tokens joined_byte z)) (append_assoc x (g ∷ U) R)
      ∙ (ap (front_of joined_byte) t
      ∙ (front_of-word joined_byte x (tokens joined_byte X)
      ∙ ap (λ z. or_front joined_byte (definition_front joined_byte (x ++ z)) (modifier_of joined_byte x) x (front_of joined_byte (tokens joined_byte X))) (token_units-tokens joined_byte X)))

  -- What stands before the first `=` is no front where it was none before the rename.
  pub front-none : (ts : List (Token Cell)) (R : List (List Cell)) → AreTokens joined_byte ts → EndsAtColon ts R → OldAreNames o ts → front_of joined_byte (tokens joined_byte (token_units ts ++ R)) ≡ None
      → front_of joined_byte (tokens joined_byte (token_units (tokens_renamed o n ts) ++ R)) ≡ None
  front-none [] R a s b h = h
  front-none (Gap u ∷ ts) R a s b h =
      let start : (X : List (List Cell)) → front_of joined_byte (tokens joined_byte (u ∷ X)) ≡ front_after_units joined_byte (u ∷ []) (front_of joined_byte (tokens joined_byte X)) =
      λ X. ap (λ z. front_of joined_byte (before_tokens z u (tokens joined_byte X))) a.0 in
      start (token_units (tokens_renamed o n ts) ++ R)
      ∙ ap (front_after_units joined_byte (u ∷ [])) (front-none ts R a.1 s b (inner (u ∷ []) (front_of joined_byte (tokens joined_byte (token_units ts ++ R))) (sym (start (token_units ts ++ R)) ∙ h)))
  front-none (Word w ∷ []) R a s b h = go (is_word_of o w) refl
    where
      go : (c : Bool) → is_word_of o w ≡ c → front_of joined_byte (tokens joined_byte ((cond c (cell_units n) w ++ []) ++ R)) ≡ None
      go false e = h
      go true e =
          let k = colon-ends s.0 s.1 s.3 in
          colon-front (cell_units n) s.0 s.1 R s.2 s.3 new.word.word
          ∙ word-front w (cell_units n) s.0 s.1 s.1 a.0 new.word.word (b.0 e) names k k (λ q. q) (sym (colon-front w s.0 s.1 R s.2 s.3 a.0) ∙ h)
  front-none (Word w ∷ Gap g ∷ ts) R a s b h = go (is_word_of o w) refl (front-none (Gap g ∷ ts) R a.2 s b.1)
    where
      start : (Y : List (List Cell)) → front_gap (g ∷ Y) ≡ front_gap Y
      start Y = ap (λ z. map (symbol joined_byte) (cond z (after_blanks joined_byte Y) (g ∷ Y))) a.2.0

      ends : (Y : List (List Cell)) → ends_name_before_equals joined_byte (g ∷ Y) ≡ true
      ends Y = ap (λ z. z || ends_name_by (symbol joined_byte g) (is_empty Y)) a.2.0

      same : (Z Z' : List (List Cell)) → (flavor_before_equals (front_gap Z) ≡ None → flavor_before_equals (front_gap Z') ≡ None) → definition_front joined_byte (w ++ g ∷ Z) ≡ None → definition_front joined_byte (w ++ g ∷ Z') ≡ None
      same Z Z' k d =
          let E = ends_name_before_equals joined_byte in
          front-parts w (g ∷ Z') a.0
          ∙ (ap (λ x. front_by joined_byte (flavor_before_equals (front_gap (from E (w ++ g ∷ Z')))) [] x (from E (w ++ g ∷ Z'))) (sym (until-same w g Z Z' a.2.0))
          ∙ no_front (flavor_before_equals (front_gap (from E (w ++ g ∷ Z)))) (flavor_before_equals (front_gap (from E (w ++ g ∷ Z')))) [] (until E (w ++ g ∷ Z)) (from E (w ++ g ∷ Z)) (from E (w ++ g ∷ Z'))
          (sym (front-parts w (g ∷ Z) a.0) ∙ d) (from-none w g Z Z' a.2.0 (no_gaps w a.0) k))

      go : (c : Bool) → is_word_of o w ≡ c
          → (front_of joined_byte (tokens joined_byte (token_units (Gap g ∷ ts) ++ R)) ≡ None → front_of joined_byte (tokens joined_byte (token_units (tokens_renamed o n (Gap g ∷ ts)) ++ R)) ≡ None)
          → front_of joined_byte (tokens joined_byte ((cond c (cell_units n) w ++ g ∷ token_units (tokens_renamed o n ts)) ++ R)) ≡ None
      go c e i =
          let Z = token_units ts ++ R in
          let Z' = token_units (tokens_renamed o n ts) ++ R in
          let F = front_of joined_byte (tokens joined_byte (g ∷ Z)) in
          let old = or-none (definition_front joined_byte (w ++ g ∷ Z)) (modifier_of joined_byte w) w F (sym (gap-front w g (token_units ts) R a.2.0 a.0) ∙ h) in
          let k : flavor_before_equals (front_gap Z) ≡ None → flavor_before_equals (front_gap Z') ≡ None = operator-none ts R a.2.1 (rest ts s) in
          at c e old.0 (λ x q. i (old.1 x q)) k
        where
          rest : (ts : List (Token Cell)) → EndsAtColon (Gap g ∷ ts) R → EndsAtColon ts R
          rest ts s = s

          at : (c : Bool) → is_word_of o w ≡ c → definition_front joined_byte (w ++ g ∷ (token_units ts ++ R)) ≡ None
              → ((x : Modifier) → modifier_of joined_byte w ≡ Some x → front_of joined_byte (tokens joined_byte (g ∷ (token_units (tokens_renamed o n ts) ++ R))) ≡ None)
              → (flavor_before_equals (front_gap (token_units ts ++ R)) ≡ None → flavor_before_equals (front_gap (token_units (tokens_renamed o n ts) ++ R)) ≡ None)
              → front_of joined_byte (tokens joined_byte ((cond c (cell_units n) w ++ g ∷ token_units (tokens_renamed o n ts)) ++ R)) ≡ None
          at false e d m k =
              gap-front w g (token_units (tokens_renamed o n ts)) R a.2.0 a.0
              ∙ none-or _ (modifier_of joined_byte w) w _ (same (token_units ts ++ R) (token_units (tokens_renamed o n ts) ++ R) k d) m
          at true e d m k =
              let Z = token_units ts ++ R in
              let Z' = token_units (tokens_renamed o n ts) ++ R in
              let none : modifier_of joined_byte (cell_units n) ≡ None = no_modifier (cell_units n) (ap is_modifier (cell_units-text n) ∙ (not_reserved-keyword n new.new_free).1) in
              gap-front (cell_units n) g (token_units (tokens_renamed o n ts)) R a.2.0 new.word.word
              ∙ none-or _ (modifier_of joined_byte (cell_units n)) (cell_units n) _
              (word-front w (cell_units n) g Z Z' a.0 new.word.word (b.0 e) names (ends Z) (ends Z') (λ q. ap flavor_before_equals (start Z') ∙ k (ap flavor_before_equals (sym (start Z)) ∙ q)) d)
              (λ x q. absurd (let y : None ≡ Some x = sym none ∙ q in cc))
  front-none (Word w ∷ Word v ∷ ts) R a s b h = absurd (let e : true ≡ false = a.1 in cc)
