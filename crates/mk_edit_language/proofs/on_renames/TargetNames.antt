-- A line that is no assignment stays none after a rename in its targets: the new words have no unit that ends a name, so the
-- first `=` stays where it is, and what stands before it is no front.
use Rattle.std.proofs.Common.{◌≡◌, refl, sym, ap, ◌∙◌, subst, ℕ, List, [], ◌∷◌, ◌++◌, map, Bool, true, false, not, cond, Option, Some, None, append_assoc}
use Rattle.std.specs.List.{list_any}
use Rattle.std.proofs.lemmas.List.{append-nil}
use Rattle.std.proofs.lemmas.Bool.{and_parts, or_parts, not-true}
use Rattle.mk_lines.specs.Lists.{concat, leading, after_leading, Each, FirstFails}
use Rattle.mk_lines.proofs.on_lists.ListLemmas.{Each-right, leading-each, leading-after_leading, after_leading-first_fails, leading-append_all, after_leading-append_all}
use Rattle.mk_lines.specs.Cells.{Cell, Byte, joined_byte}
use Rattle.mk_lines.specs.Units.{units, is_closed}
use Rattle.mk_lines.proofs.on_units.UnitLemmas.{units-first, units-last, units-map, concat-units}
use Rattle.mk_lines.specs.Words.{Token, Gap, Word, tokens, token_units, is_word_first, is_gap, AreTokens}
use Rattle.mk_class.specs.ListTests.{is_empty}
use Rattle.mk_class.specs.Texts.{unit_text}
use Rattle.mk_class.specs.Symbols.{Symbol, symbol, is_equals_symbol}
use Rattle.mk_class.specs.Symbols.Symbol.{Hash, Colon, Semicolon, Equals, Plus, Question, Exclamation, Bar, Ampersand, NoSymbol}
use Rattle.mk_class.proofs.on_symbols.SymbolLemmas.{gap-no_symbol}
use Rattle.mk_class.proofs.on_symbols.SymbolMaps.{symbol-map}
use Rattle.mk_class.specs.Arguments.{is_clean, ends_word_symbol, ends_word, is_word}
use Rattle.mk_class.specs.Assignments.{ends_name_by, assignment}
use Rattle.mk_class.specs.AssignmentsAtEquals.{Front, front_of, with_value, is_no_equals, assignment_from}
use Rattle.mk_class.proofs.on_assignments.AssignmentEqualsLemmas.{assignment-at_equals}
use Rattle.std.proofs.lemmas.Slice.Eq.{bytes_eq-Decides}
use Rattle.mk_edit_language.specs.WordPieces.{is_word_of}
use Rattle.mk_edit_language.proofs.on_lines.HeaderLines.{leading-all}
use Rattle.mk_edit_language.proofs.on_prerequisites.NewWords.{cell_units, cell_units-text, rule_units-are}
use Rattle.mk_edit_language.proofs.on_renames.WordsRenamed.{tokens_renamed, renamed_word}
use Rattle.mk_edit_language.proofs.on_renames.RenamedHeaders.{IsNewTarget}
use Rattle.mk_edit_language.proofs.on_renames.TargetFronts.{is_name_unit, EndsAtColon, OldAreNames, front-none}

-- ---- the units of a word

name-symbol : (s : Symbol) → ends_word_symbol s ≡ false → not (ends_name_by s false) ≡ true
name-symbol Hash h = refl
name-symbol Colon h = cc
name-symbol Semicolon h = cc
name-symbol Equals h = cc
name-symbol Plus h = refl
name-symbol Question h = refl
name-symbol Exclamation h = refl
name-symbol Bar h = refl
name-symbol Ampersand h = refl
name-symbol NoSymbol h = refl

-- whether a unit of a text does not end a name, where another follows it
abbrev is_name_text : List ℕ → Bool
is_name_text u = not (ends_name_by (symbol (λ b. b) u) false)

name-texts : (us : List (List ℕ)) → list_any ends_word us ≡ false → Each is_name_text us
name-texts [] h = tt
name-texts (u ∷ us) h =
    let p = or_parts (ends_word u) (list_any ends_word us) h in
    let q = or_parts (is_gap (λ b. b) u) _ p.0 in
    (name-symbol (symbol (λ b. b) u) ((or_parts (ends_word_symbol (symbol (λ b. b) u)) _ q.1).0), name-texts us p.1)

name-cells : (us : List (List Cell)) → Each is_name_text (map (map joined_byte) us) → Each is_name_unit us
name-cells [] h = tt
name-cells (u ∷ us) h = (ap (λ s. not (ends_name_by s false)) (sym (symbol-map joined_byte (λ b. b) u)) ∙ h.0, name-cells us h.1)

-- units that are those of their own text, where that may be a word, end no name
word-names : (x : List ℕ) → is_word x ≡ true → (w : List (List Cell)) → units joined_byte (concat w) ≡ w → map joined_byte (concat w) ≡ x → Each is_name_unit w
word-names x h w e k =
    let a = and_parts (not (is_empty x)) _ h in
    let b = and_parts (is_clean x) _ a.1 in
    let c = and_parts (is_closed (λ b. b) x) (not (list_any ends_word (units (λ b. b) x))) b.1 in
    let own : units (λ b. b) x ≡ map (map joined_byte) w = ap (units (λ b. b)) (sym k) ∙ (units-map joined_byte (λ b. b) (concat w) ∙ ap (map (map joined_byte)) e) in
    name-cells w (subst (Each is_name_text) own (name-texts (units (λ b. b) x) (not-true _ c.1)))

-- the units of a new word end no name
pub new-names : (n : List ℕ) → is_word n ≡ true → Each is_name_unit (cell_units n)
new-names n h = word-names n h (cell_units n) (ap (units joined_byte) (concat-units joined_byte (map Byte n))) (cell_units-text n)

-- the units of each word of a line that is the old one end no name
pub old-names : (o : List ℕ) → is_word o ≡ true → (ts : List (Token Cell)) (t : List Cell) (R : List (List Cell)) → units joined_byte t ≡ token_units ts ++ R → OldAreNames o ts
old-names o i [] t R h = tt
old-names o i (Gap u ∷ ts) t R h = old-names o i ts (concat (token_units ts ++ R)) R (units-last joined_byte t (u ∷ []) (token_units ts ++ R) h)
old-names o i (Word w ∷ ts) t R h =
    let X = token_units ts ++ R in
    let k : units joined_byte t ≡ w ++ X = h ∙ append_assoc w (token_units ts) R in
    (λ e. word-names o i w (units-first joined_byte t w X k) ((bytes_eq-Decides (unit_text joined_byte w) o).0 e), old-names o i ts (concat X) R (units-last joined_byte t w X k))

-- ---- what stands before the first `=`

name-no_equals : (s : Symbol) → not (ends_name_by s false) ≡ true → not (is_equals_symbol s) ≡ true
name-no_equals Hash h = refl
name-no_equals Colon h = refl
name-no_equals Semicolon h = refl
name-no_equals Equals h = cc
name-no_equals Plus h = refl
name-no_equals Question h = refl
name-no_equals Exclamation h = refl
name-no_equals Bar h = refl
name-no_equals Ampersand h = refl
name-no_equals NoSymbol h = refl

after_leading-all : {A : Type 0} (p : A → Bool) (xs ys : List A) → Each p xs → after_leading p (xs ++ ys) ≡ after_leading p ys
after_leading-all p [] ys h = refl
after_leading-all p (x ∷ xs) ys h = ap (λ c. cond c (after_leading p (xs ++ ys)) (x ∷ (xs ++ ys))) h.0 ∙ after_leading-all p xs ys h.1

-- units that begin with a `:`
abbrev BeginsColon : List (List Cell) → Type 0
BeginsColon R = (c : List Cell) × (r : List (List Cell)) × (R ≡ c ∷ r) × (symbol joined_byte c ≡ Colon)

-- What stands before the first `=` of targets and what follows them, before and after a rename: some of the tokens, renamed, and
-- units that stay.
record FrontPart (o n : List ℕ) (ts : List (Token Cell)) (F : List (List Cell)) : Type 0 where
  front : List (Token Cell)
  last : List (List Cell)
  are_tokens : AreTokens joined_byte front
  ends_at_colon : EndsAtColon front last
  names : OldAreNames o front
  old_is : leading (is_no_equals joined_byte) (token_units ts ++ F) ≡ token_units front ++ last
  new_is : leading (is_no_equals joined_byte) (token_units (tokens_renamed o n ts) ++ F) ≡ token_units (tokens_renamed o n front) ++ last
  rest_none : after_leading (is_no_equals joined_byte) (token_units ts ++ F) ≡ [] → after_leading (is_no_equals joined_byte) (token_units (tokens_renamed o n ts) ++ F) ≡ []
  no_word : is_word_first ts ≡ false → is_word_first front ≡ false
  colon : is_word_first ts ≡ false → front ≡ [] → BeginsColon last

module _ (o n : List ℕ) (new : IsNewTarget o n) (x : List Cell) (r : List (List Cell)) (k : symbol joined_byte x ≡ Colon) where
  -- whether a unit is no `=`
  abbrev passes : List Cell → Bool
  passes = is_no_equals joined_byte

  -- what follows the targets
  abbrev following : List (List Cell)
  following = x ∷ r

  renamed-no_equals : (w : List (List Cell)) → Each passes w → Each passes (renamed_word o n w)
  renamed-no_equals w h = go (is_word_of o w)
    where
      go : (c : Bool) → Each passes (cond c (cell_units n) w)
      go true = (rule_units-are joined_byte (cell_units n) new.word.units).no_equals
      go false = h

  -- units without a `=` stand before what stands before the first
  before-first : (v A B L : List (List Cell)) → Each passes v → leading passes (A ++ following) ≡ B ++ L → leading passes ((v ++ A) ++ following) ≡ (v ++ B) ++ L
  before-first v A B L h e =
      ap (leading passes) (append_assoc v A following) ∙ (leading-all passes v (A ++ following) h ∙ (ap (λ z. v ++ z) e ∙ sym (append_assoc v B L)))

  after-first : (v A : List (List Cell)) → Each passes v → after_leading passes ((v ++ A) ++ following) ≡ after_leading passes (A ++ following)
  after-first v A h = ap (after_leading passes) (append_assoc v A following) ∙ after_leading-all passes v (A ++ following) h

  front-part : (ts : List (Token Cell)) → AreTokens joined_byte ts → OldAreNames o ts → FrontPart o n ts following
  front-part [] a b = record {
    front = [];
    last = leading passes following;
    are_tokens = tt;
    ends_at_colon = tt;
    names = tt;
    old_is = refl;
    new_is = refl;
    rest_none = λ e. e;
    no_word = λ e. refl;
    colon = λ e q. (x, leading passes r, ap (λ s. cond (not (is_equals_symbol s)) (x ∷ leading passes r) []) k, k);
  }
  front-part (Gap u ∷ ts) a b =
      let i = front-part ts a.1 b in
      let g : passes u ≡ true = ap (λ s. not (is_equals_symbol s)) (gap-no_symbol joined_byte u a.0) in
      let X = token_units ts ++ following in
      let X' = token_units (tokens_renamed o n ts) ++ following in
      record {
        front = Gap u ∷ i.front;
        last = i.last;
        are_tokens = (a.0, i.are_tokens);
        ends_at_colon = i.ends_at_colon;
        names = i.names;
        old_is = ap (λ c. cond c (u ∷ leading passes X) []) g ∙ ap (λ z. u ∷ z) i.old_is;
        new_is = ap (λ c. cond c (u ∷ leading passes X') []) g ∙ ap (λ z. u ∷ z) i.new_is;
        rest_none = λ e. ap (λ c. cond c (after_leading passes X') (u ∷ X')) g ∙ i.rest_none (sym (ap (λ c. cond c (after_leading passes X) (u ∷ X)) g) ∙ e);
        no_word = λ e. refl;
        colon = λ e q. absurd (let z : Gap u ∷ i.front ≡ [] = q in cc);
      }
  front-part (Word w ∷ ts) a b = go (after_leading passes w) refl (after_leading-first_fails passes w) (front-part ts a.2 b.1)
    where
      colon_after : (f : List (Token Cell)) (L : List (List Cell)) → EndsAtColon f L → (f ≡ [] → BeginsColon L) → EndsAtColon (Word w ∷ f) L
      colon_after [] L s c = c refl
      colon_after (t ∷ f) L s c = s

      whole : (m : List (List Cell)) → after_leading passes w ≡ m → leading passes w ++ m ≡ w
      whole m q = ap (λ z. leading passes w ++ z) (sym q) ∙ leading-after_leading passes w

      -- the units of the word and what follows, by its first `=`
      apart : (e : List Cell) (m U : List (List Cell)) → after_leading passes w ≡ e ∷ m → (w ++ U) ++ following ≡ leading passes w ++ e ∷ (m ++ (U ++ following))
      apart e m U q =
          let v = leading passes w in
          ap (λ z. (z ++ U) ++ following) (sym (whole (e ∷ m) q)) ∙ (append_assoc (v ++ e ∷ m) U following ∙ append_assoc v (e ∷ m) (U ++ following))

      cut : (e : List Cell) (m U : List (List Cell)) → after_leading passes w ≡ e ∷ m → passes e ≡ false → leading passes ((w ++ U) ++ following) ≡ leading passes w
      cut e m U q f = ap (leading passes) (apart e m U q) ∙ leading-append_all passes (leading passes w) (e ∷ (m ++ (U ++ following))) (leading-each passes w) f

      left : (e : List Cell) (m U : List (List Cell)) → after_leading passes w ≡ e ∷ m → passes e ≡ false → after_leading passes ((w ++ U) ++ following) ≡ e ∷ (m ++ (U ++ following))
      left e m U q f = ap (after_leading passes) (apart e m U q) ∙ after_leading-append_all passes (leading passes w) (e ∷ (m ++ (U ++ following))) (leading-each passes w) f

      -- a word with a `=` is not the old one
      stays : (e : List Cell) (m : List (List Cell)) → after_leading passes w ≡ e ∷ m → passes e ≡ false → (c : Bool) → is_word_of o w ≡ c → c ≡ false
      stays e m q f true y =
          let names : Each is_name_unit (e ∷ m) = Each-right is_name_unit (leading passes w) (e ∷ m) (subst (Each is_name_unit) (sym (whole (e ∷ m) q)) (b.0 y)) in
          let z : true ≡ false = sym (name-no_equals (symbol joined_byte e) names.0) ∙ f in
          cc
      stays e m q f false y = refl

      go : (m : List (List Cell)) → after_leading passes w ≡ m → FirstFails passes m → FrontPart o n ts following → FrontPart o n (Word w ∷ ts) following
      go [] q f i =
          let each : Each passes w = subst (Each passes) (sym (append-nil (leading passes w)) ∙ whole [] q) (leading-each passes w) in
          let U = token_units ts in
          let U' = token_units (tokens_renamed o n ts) in
          record {
            front = Word w ∷ i.front;
            last = i.last;
            are_tokens = (a.0, i.no_word a.1, i.are_tokens);
            ends_at_colon = colon_after i.front i.last i.ends_at_colon (i.colon a.1);
            names = (b.0, i.names);
            old_is = before-first w U (token_units i.front) i.last each i.old_is;
            new_is = before-first (renamed_word o n w) U' (token_units (tokens_renamed o n i.front)) i.last (renamed-no_equals w each) i.new_is;
            rest_none = λ e. after-first (renamed_word o n w) U' (renamed-no_equals w each) ∙ i.rest_none (sym (after-first w U each) ∙ e);
            no_word = λ e. absurd (let z : true ≡ false = e in cc);
            colon = λ e y. absurd (let z : true ≡ false = e in cc);
          }
      go (e ∷ m) q f i =
          let U = token_units ts in
          let U' = token_units (tokens_renamed o n ts) in
          record {
            front = [];
            last = leading passes w;
            are_tokens = tt;
            ends_at_colon = tt;
            names = tt;
            old_is = cut e m U q f;
            new_is = ap (λ c. leading passes ((cond c (cell_units n) w ++ U') ++ following)) (stays e m q f (is_word_of o w) refl) ∙ cut e m U' q f;
            rest_none = λ y. absurd (let z : e ∷ (m ++ (U ++ following)) ≡ [] = sym (left e m U q f) ∙ y in cc);
            no_word = λ y. refl;
            colon = λ y z. absurd (let j : true ≡ false = y in cc);
          }

  no_value : (f : Option (Front Cell)) (e : List Cell) (m : List (List Cell)) → with_value joined_byte f e m ≡ None → f ≡ None
  no_value None e m h = refl
  no_value (Some f) e m h = absurd (cc)

  no_front : (b m : List (List Cell)) → front_of joined_byte (tokens joined_byte b) ≡ None → assignment_from joined_byte b m ≡ None
  no_front b [] h = refl
  no_front b (e ∷ m) h = ap (λ z. with_value joined_byte z e m) h

  -- Targets before a `:` that are no assignment are none after a rename.
  pub renamed-unassigned : Each is_name_unit (cell_units n) → (ts : List (Token Cell)) → AreTokens joined_byte ts → OldAreNames o ts → assignment joined_byte (token_units ts ++ (x ∷ r)) ≡ None
      → assignment joined_byte (token_units (tokens_renamed o n ts) ++ (x ∷ r)) ≡ None
  renamed-unassigned names ts a b h =
      let old = token_units ts ++ following in
      assignment-at_equals joined_byte (token_units (tokens_renamed o n ts) ++ following)
      ∙ go (after_leading passes old) refl (front-part ts a b) (sym (assignment-at_equals joined_byte old) ∙ h)
    where
      go : (m : List (List Cell)) → after_leading passes (token_units ts ++ following) ≡ m → FrontPart o n ts following
          → assignment_from joined_byte (leading passes (token_units ts ++ following)) (after_leading passes (token_units ts ++ following)) ≡ None
          → assignment_from joined_byte (leading passes (token_units (tokens_renamed o n ts) ++ following)) (after_leading passes (token_units (tokens_renamed o n ts) ++ following)) ≡ None
      go [] q p e = ap (assignment_from joined_byte (leading passes (token_units (tokens_renamed o n ts) ++ following))) (p.rest_none q)
      go (y ∷ m) q p e =
          let f : front_of joined_byte (tokens joined_byte (leading passes (token_units ts ++ following))) ≡ None =
          no_value (front_of joined_byte (tokens joined_byte (leading passes (token_units ts ++ following)))) y m (sym (ap (assignment_from joined_byte (leading passes (token_units ts ++ following))) q) ∙ e) in
          let g = front-none o n new names p.front p.last p.are_tokens p.ends_at_colon p.names (ap (λ z. front_of joined_byte (tokens joined_byte z)) (sym p.old_is) ∙ f) in
          no_front (leading passes (token_units (tokens_renamed o n ts) ++ following)) (after_leading passes (token_units (tokens_renamed o n ts) ++ following)) (ap (λ z. front_of joined_byte (tokens joined_byte z)) p.new_is ∙ g)
