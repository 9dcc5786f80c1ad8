-- The words before the name of an assignment are its modifiers.
use Rattle.std.proofs.Common.{◌≡◌, refl, ap, ◌∙◌, subst, ℕ, List, [], ◌∷◌, ◌++◌, map, Bool, true, false, Option, Some, None}
use Rattle.std.specs.Prelude.{if◌then◌else◌, codes}
use Rattle.std.specs.Str.{bytes_eq}
use Rattle.std.proofs.lemmas.Slice.Eq.{bytes_eq-Decides}
use Rattle.mk_lines.specs.Lists.{Each}
use Rattle.mk_lines.specs.Words.{Token, Gap, Word, tokens, before_tokens, token_words, token_units, is_word_first, is_gap, IsWord, AreTokens}
use Rattle.mk_lines.proofs.on_lists.ListLemmas.{leading-each}
use Rattle.mk_lines.proofs.on_units.TokenLemmas.{tokens-word, tokens-are_tokens}
use Rattle.mk_class.specs.ListTests.{until, from}
use Rattle.mk_class.specs.Symbols.{symbol}
use Rattle.mk_class.specs.Texts.{unit_text, word_texts}
use Rattle.mk_class.specs.Assignments.{Assignment, operator_at, ends_name, after_blanks, blanks, defined_by, definition, modifier_of, after_units, after_modifier, assignment_of, assignment}
use Rattle.mk_class.specs.declared.assignment.Flavor.{Flavor}
use Rattle.mk_class.specs.declared.assignment.Modifier.{Modifier}
use Rattle.mk_class.specs.declared.assignment.Modifier.TheVariants.{Override, Export, Private}
use Rattle.mk_edit_language.specs.LineChanges.{modifier_number}
use Rattle.mk_edit.specs.LineChangePlans.{are_same_texts}

-- the word that a modifier is
abbrev pub modifier_text : Modifier → List ℕ
modifier_text Override = codes "override"
modifier_text Export = codes "export"
modifier_text Private = codes "private"

module _ {A : Type 0} (byte : A → ℕ) where
  -- the words before the name of an assignment, if there is one, are its modifiers
  abbrev AreModifiers : Option (Assignment A) → Type 0
  AreModifiers None = Unit {0}
  AreModifiers (Some a) = word_texts byte a.before ≡ map modifier_text a.modifiers

  -- no word stands at the front of the units before the name
  abbrev BeginApart : Option (Assignment A) → Type 0
  BeginApart None = Unit {0}
  BeginApart (Some a) = is_word_first (tokens byte a.before) ≡ false

  gaps-no_words : (g : List (List A)) → Each (is_gap byte) g → word_texts byte g ≡ []
  gaps-no_words [] h = refl
  gaps-no_words (u ∷ g) h = ap (λ z. map (map byte) (token_words (before_tokens z u (tokens byte g)))) h.0 ∙ gaps-no_words g h.1

  modifiers-defined : (o : Option Flavor) (b n g r : List (List A)) → Each (is_gap byte) b → AreModifiers (defined_by byte o b n g r)
  modifiers-defined None b n g r h = tt
  modifiers-defined (Some f) b [] g r h = tt
  modifiers-defined (Some f) b (u ∷ n) g r h = gaps-no_words b h

  modifiers-definition : (us : List (List A)) → AreModifiers (definition byte us)
  modifiers-definition us =
      let N = after_blanks byte us in
      let F = from (ends_name byte) N in
      modifiers-defined (operator_at (map (symbol byte) (after_blanks byte F))) (blanks byte us) (until (ends_name byte) N) (blanks byte F) (after_blanks byte F) (leading-each (is_gap byte) us)

  apart-units : (u : List A) (o : Option (Assignment A)) → is_gap byte u ≡ true → BeginApart (after_units byte (u ∷ []) o)
  apart-units u None h = tt
  apart-units u (Some a) h = ap (λ z. is_word_first (before_tokens z u (tokens byte a.before))) h

  apart-tokens : (ts : List (Token A)) → AreTokens byte ts → is_word_first ts ≡ false → BeginApart (assignment_of byte ts)
  apart-tokens [] h k = tt
  apart-tokens (Gap u ∷ ts) h k = apart-units u (assignment_of byte ts) h.0
  apart-tokens (Word w ∷ ts) h k = absurd (cc)

  modifiers-units : (u : List A) (o : Option (Assignment A)) → is_gap byte u ≡ true → AreModifiers o → AreModifiers (after_units byte (u ∷ []) o)
  modifiers-units u None h k = tt
  modifiers-units u (Some a) h k = ap (λ z. map (map byte) (token_words (before_tokens z u (tokens byte a.before)))) h ∙ k

  modifiers-modifier : (m : Modifier) (w : List (List A)) (o : Option (Assignment A)) → IsWord byte w → unit_text byte w ≡ modifier_text m → BeginApart o → AreModifiers o → AreModifiers (after_modifier byte m w o)
  modifiers-modifier m w None h t b k = tt
  modifiers-modifier m w (Some a) h t b k =
      ap (λ ts. map (map byte) (token_words ts)) (tokens-word byte w a.before (tokens byte a.before) h refl b)
      ∙ (ap (λ z. z ∷ word_texts byte a.before) t ∙ ap (λ z. modifier_text m ∷ z) k)

  -- what a word says that is a modifier
  modifier-is : (w : List (List A)) (m : Modifier) → modifier_of byte w ≡ Some m → unit_text byte w ≡ modifier_text m
  modifier-is w m h = go (bytes_eq (unit_text byte w) (codes "override")) (bytes_eq (unit_text byte w) (codes "export")) (bytes_eq (unit_text byte w) (codes "private")) refl refl refl h
    where
      go : (a b c : Bool) → bytes_eq (unit_text byte w) (codes "override") ≡ a → bytes_eq (unit_text byte w) (codes "export") ≡ b → bytes_eq (unit_text byte w) (codes "private") ≡ c
          → (if a then Some Override else if b then Some Export else if c then Some Private else None) ≡ Some m → unit_text byte w ≡ modifier_text m
      go true b c h j k e = let n : Override ≡ m = cc in (bytes_eq-Decides (unit_text byte w) (codes "override")).0 h ∙ ap modifier_text n
      go false true c h j k e = let n : Export ≡ m = cc in (bytes_eq-Decides (unit_text byte w) (codes "export")).0 j ∙ ap modifier_text n
      go false false true h j k e = let n : Private ≡ m = cc in (bytes_eq-Decides (unit_text byte w) (codes "private")).0 k ∙ ap modifier_text n
      go false false false h j k e = absurd (cc)

  modifiers-tokens : (ts : List (Token A)) → AreTokens byte ts → AreModifiers (assignment_of byte ts)
  modifiers-tokens [] h = tt
  modifiers-tokens (Gap u ∷ ts) h = modifiers-units u (assignment_of byte ts) h.0 (modifiers-tokens ts h.1)
  modifiers-tokens (Word w ∷ ts) h = go (definition byte (w ++ token_units ts)) (modifier_of byte w) refl (modifiers-definition (w ++ token_units ts)) (modifiers-tokens ts h.2)
    where
      go : (d : Option (Assignment A)) (m : Option Modifier) → modifier_of byte w ≡ m → AreModifiers d → AreModifiers (assignment_of byte ts)
          → AreModifiers (elim d [ Some a ↦ Some a | None ↦ elim m [ Some m ↦ after_modifier byte m w (assignment_of byte ts) | None ↦ None ] ])
      go (Some a) m e k r = k
      go None (Some m) e k r = modifiers-modifier m w (assignment_of byte ts) h.0 (modifier-is w m e) (apart-tokens ts h.2 h.1) r
      go None None e k r = tt

  -- the words before the name of an assignment are its modifiers
  pub modifiers-words : (us : List (List A)) (a : Assignment A) → assignment byte us ≡ Some a → word_texts byte a.before ≡ map modifier_text a.modifiers
  modifiers-words us a h = let k : AreModifiers (Some a) = subst AreModifiers h (modifiers-tokens (tokens byte us) (tokens-are_tokens byte us)) in k

-- modifiers are the same where their words are
pub same-modifiers : (m n : List Modifier) → are_same_texts (map modifier_text m) (map modifier_text n) ≡ bytes_eq (map modifier_number n) (map modifier_number m)
same-modifiers [] [] = refl
same-modifiers [] (y ∷ n) = refl
same-modifiers (x ∷ m) [] = refl
same-modifiers (Override ∷ m) (Override ∷ n) = same-modifiers m n
same-modifiers (Override ∷ m) (Export ∷ n) = refl
same-modifiers (Override ∷ m) (Private ∷ n) = refl
same-modifiers (Export ∷ m) (Override ∷ n) = refl
same-modifiers (Export ∷ m) (Export ∷ n) = same-modifiers m n
same-modifiers (Export ∷ m) (Private ∷ n) = refl
same-modifiers (Private ∷ m) (Override ∷ n) = refl
same-modifiers (Private ∷ m) (Export ∷ n) = refl
same-modifiers (Private ∷ m) (Private ∷ n) = same-modifiers m n
