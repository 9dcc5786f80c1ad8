-- The assignment that the image of a cut text is: the image of the assignment that the cut text is.
use Rattle.std.proofs.Common.{◌≡◌, refl, sym, ap, ◌∙◌, ℕ, List, [], ◌∷◌, ◌++◌, map, Option, Some, None, take, drop}
use Rattle.std.proofs.lemmas.List.{map-append, take-map, drop-map}
use Rattle.mk_lines.specs.Words.{Token, Gap, Word, tokens, token_units, is_gap}
use Rattle.mk_lines.proofs.on_units.TokenLemmas.{map_token, is_gap-map, tokens-map, token_units-map}
use Rattle.mk_class.specs.ListTests.{until, from}
use Rattle.mk_class.proofs.on_symbols.ListMaps.{first_passes-map, leading-map, after_leading-map, trim_end-map, trailing-map, until-map, from-map}
use Rattle.mk_class.specs.Symbols.{symbol, is_equals}
use Rattle.mk_class.proofs.on_symbols.SymbolMaps.{symbol-map, symbols-map, is_equals-map, unit_text-map}
use Rattle.mk_class.specs.Assignments.{Assignment, operator_at, operator_length, ends_name, after_blanks, blanks, defined_by, definition_of, definition, modifier_of, after_units, after_modifier, assignment_of, assignment}
use Rattle.mk_class.specs.declared.assignment.Flavor.{Flavor}
use Rattle.mk_class.specs.declared.assignment.Modifier.{Modifier}

-- the image of an assignment
abbrev pub map_assignment : {A B : Type 0} → (A → B) → Assignment A → Assignment B
map_assignment f a = record {
  modifiers = a.modifiers;
  flavor = a.flavor;
  before = map (map f) a.before;
  name = map (map f) a.name;
  operator = map (map f) a.operator;
  value = map (map f) a.value;
  after = map (map f) a.after;
}

-- the image of an assignment, where there is one
abbrev pub map_assigned : {A B : Type 0} → (A → B) → Option (Assignment A) → Option (Assignment B)
map_assigned f None = None
map_assigned f (Some a) = Some (map_assignment f a)

-- a definition; or, if it is none, the assignment after a word that is a modifier
abbrev or_modified : {A : Type 0} → (byte : A → ℕ) → Option (Assignment A) → Option Modifier → (word : List (List A)) → Option (Assignment A) → Option (Assignment A)
or_modified byte d m w o = elim d [ Some a ↦ Some a | None ↦ elim m [ Some n ↦ after_modifier byte n w o | None ↦ None ] ]

module _ {A B : Type 0} (f : A → B) (byte : B → ℕ) where
  -- ---- definitions

  -- a name ends before the images of units where it ends before the units
  ends_name-map : (us : List (List A)) → ends_name byte (map (map f) us) ≡ ends_name (λ x. byte (f x)) us
  ends_name-map [] = refl
  ends_name-map (u ∷ us) = rw (is_gap-map f byte u, symbol-map f byte u, first_passes-map (map f) (is_equals (λ x. byte (f x))) (is_equals byte) (is_equals-map f byte) us) refl

  -- the blanks at the front of the images of units
  blanks-map : (us : List (List A)) → blanks byte (map (map f) us) ≡ map (map f) (blanks (λ x. byte (f x)) us)
  blanks-map us = leading-map (map f) (is_gap (λ x. byte (f x))) (is_gap byte) (is_gap-map f byte) us

  -- what stands after the blanks
  after_blanks-map : (us : List (List A)) → after_blanks byte (map (map f) us) ≡ map (map f) (after_blanks (λ x. byte (f x)) us)
  after_blanks-map us = after_leading-map (map f) (is_gap (λ x. byte (f x))) (is_gap byte) (is_gap-map f byte) us

  -- the operator with the blanks around it
  operator-map : (n : ℕ) (g r : List (List A)) → map (map f) g ++ (take n (map (map f) r) ++ blanks byte (drop n (map (map f) r))) ≡ map (map f) (g ++ (take n r ++ blanks (λ x. byte (f x)) (drop n r)))
  operator-map n g r =
      let R = drop n r in
      let e : take n (map (map f) r) ++ blanks byte (drop n (map (map f) r)) ≡ map (map f) (take n r) ++ map (map f) (blanks (λ x. byte (f x)) R) = rw (take-map (map f) n r, drop-map (map f) n r) (ap (λ z. map (map f) (take n r) ++ z) (blanks-map R)) in
      ap (λ z. map (map f) g ++ z) (e ∙ sym (map-append (map f) (take n r) (blanks (λ x. byte (f x)) R))) ∙ sym (map-append (map f) g (take n r ++ blanks (λ x. byte (f x)) R))

  defined_by-map : (o : Option Flavor) (b n g r : List (List A)) → defined_by byte o (map (map f) b) (map (map f) n) (map (map f) g) (map (map f) r) ≡ map_assigned f (defined_by (λ x. byte (f x)) o b n g r)
  defined_by-map None b n g r = refl
  defined_by-map (Some k) b [] g r = refl
  defined_by-map (Some k) b (u ∷ n) g r =
      let R = drop (operator_length k) r in
      let e : after_blanks byte (drop (operator_length k) (map (map f) r)) ≡ map (map f) (after_blanks (λ x. byte (f x)) R) = ap (after_blanks byte) (drop-map (map f) (operator_length k) r) ∙ after_blanks-map R in
      rw (
        operator-map (operator_length k) g r,
        e,
        trim_end-map (map f) (is_gap (λ x. byte (f x))) (is_gap byte) (is_gap-map f byte) (after_blanks (λ x. byte (f x)) R),
        trailing-map (map f) (is_gap (λ x. byte (f x))) (is_gap byte) (is_gap-map f byte) (after_blanks (λ x. byte (f x)) R),
      ) refl

  definition_of-map : (b us : List (List A)) → definition_of byte (map (map f) b) (map (map f) us) ≡ map_assigned f (definition_of (λ x. byte (f x)) b us)
  definition_of-map b us =
      let N = until (ends_name (λ x. byte (f x))) us in
      let F = from (ends_name (λ x. byte (f x))) us in
      rw (
        until-map (map f) (ends_name (λ x. byte (f x))) (ends_name byte) ends_name-map us,
        from-map (map f) (ends_name (λ x. byte (f x))) (ends_name byte) ends_name-map us,
        blanks-map F,
        after_blanks-map F,
        symbols-map f byte (after_blanks (λ x. byte (f x)) F),
      ) (defined_by-map (operator_at (map (symbol (λ x. byte (f x))) (after_blanks (λ x. byte (f x)) F))) b N (blanks (λ x. byte (f x)) F) (after_blanks (λ x. byte (f x)) F))

  -- the definition that the images of units are
  definition-map : (us : List (List A)) → definition byte (map (map f) us) ≡ map_assigned f (definition (λ x. byte (f x)) us)
  definition-map us = rw (blanks-map us, after_blanks-map us) (definition_of-map (blanks (λ x. byte (f x)) us) (after_blanks (λ x. byte (f x)) us))

  -- ---- modifiers

  -- the image of a word is the same modifier
  modifier_of-map : (w : List (List A)) → modifier_of byte (map (map f) w) ≡ modifier_of (λ x. byte (f x)) w
  modifier_of-map w = rw (unit_text-map f byte w) refl

  after_units-map : (us : List (List A)) (o : Option (Assignment A)) → after_units byte (map (map f) us) (map_assigned f o) ≡ map_assigned f (after_units (λ x. byte (f x)) us o)
  after_units-map us None = refl
  after_units-map us (Some a) = rw (map-append (map f) us a.before) refl

  after_modifier-map : (m : Modifier) (w : List (List A)) (o : Option (Assignment A)) → after_modifier byte m (map (map f) w) (map_assigned f o) ≡ map_assigned f (after_modifier (λ x. byte (f x)) m w o)
  after_modifier-map m w None = refl
  after_modifier-map m w (Some a) = rw (map-append (map f) w a.before) refl

  -- ---- the whole

  definition_of_word-map : (ts : List (Token A)) (w : List (List A)) → definition byte (map (map f) w ++ token_units (map (map_token f) ts)) ≡ map_assigned f (definition (λ x. byte (f x)) (w ++ token_units ts))
  definition_of_word-map ts w = ap (λ z. definition byte (map (map f) w ++ z)) (token_units-map f byte ts) ∙ (ap (definition byte) (sym (map-append (map f) w (token_units ts))) ∙ definition-map (w ++ token_units ts))

  or_modified-map : (d : Option (Assignment A)) (m : Option Modifier) (w : List (List A)) (o : Option (Assignment A)) → or_modified byte (map_assigned f d) m (map (map f) w) (map_assigned f o) ≡ map_assigned f (or_modified (λ x. byte (f x)) d m w o)
  or_modified-map (Some a) m w o = refl
  or_modified-map None (Some m) w o = after_modifier-map m w o
  or_modified-map None None w o = refl

  -- the assignment that the images of words and gaps are
  assignment_of-map : (ts : List (Token A)) → assignment_of byte (map (map_token f) ts) ≡ map_assigned f (assignment_of (λ x. byte (f x)) ts)
  assignment_of-map [] = refl
  assignment_of-map (Gap u ∷ ts) = ap (after_units byte (map f u ∷ [])) (assignment_of-map ts) ∙ after_units-map (u ∷ []) (assignment_of (λ x. byte (f x)) ts)
  assignment_of-map (Word w ∷ ts) =
      let D = definition (λ x. byte (f x)) (w ++ token_units ts) in
      let M = modifier_of (λ x. byte (f x)) w in
      ap (λ d. or_modified byte d (modifier_of byte (map (map f) w)) (map (map f) w) (assignment_of byte (map (map_token f) ts))) (definition_of_word-map ts w)
      ∙ (ap (λ m. or_modified byte (map_assigned f D) m (map (map f) w) (assignment_of byte (map (map_token f) ts))) (modifier_of-map w)
      ∙ (ap (or_modified byte (map_assigned f D) M (map (map f) w)) (assignment_of-map ts) ∙ or_modified-map D M w (assignment_of (λ x. byte (f x)) ts)))

  -- the assignment that the image of a cut text is
  pub assignment-map : (us : List (List A)) → assignment byte (map (map f) us) ≡ map_assigned f (assignment (λ x. byte (f x)) us)
  assignment-map us = ap (assignment_of byte) (tokens-map f byte us) ∙ assignment_of-map (tokens (λ x. byte (f x)) us)
