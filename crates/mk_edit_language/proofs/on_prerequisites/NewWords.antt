-- Words that an edit may write, as the units of a line's cells: none is a gap, a symbol or a unit that no word may have.
use Rattle.std.proofs.Common.{◌≡◌, refl, sym, ap, ◌∙◌, subst, ℕ, List, [], ◌∷◌, ◌++◌, map, Bool, true, false, not, ◌&&◌, ◌||◌}
use Rattle.std.specs.List.{list_any}
use Rattle.std.proofs.lemmas.Bool.{and_parts, or_parts, not-true}
use Rattle.std.proofs.lemmas.List.{append-nil}
use Rattle.mk_lines.specs.Lists.{concat, Each}
use Rattle.mk_lines.specs.Bytes.{byte_kind, is_backslash_kind}
use Rattle.mk_lines.specs.Cells.{Cell, Byte, joined_byte}
use Rattle.mk_lines.specs.CellFaults.{has_stray}
use Rattle.mk_lines.specs.Units.{units, is_closed}
use Rattle.mk_lines.proofs.on_units.UnitLemmas.{concat-units, units-map, is_closed-map}
use Rattle.mk_lines.specs.FirstUnit.{is_unclosed_unit, is_lone_backslash, leaves_open}
use Rattle.mk_lines.proofs.on_units.FirstUnitLemmas.{is_closed-leaves_open}
use Rattle.mk_lines.specs.Words.{is_gap, IsWord}
use Rattle.mk_lines.proofs.on_units.TokenLemmas.{is_gap-map}
use Rattle.mk_class.specs.ListTests.{is_empty, last_passes}
use Rattle.mk_class.proofs.on_symbols.ListMaps.{last_passes-map}
use Rattle.mk_class.specs.Symbols.{Symbol, symbol, is_equals, is_ampersand, is_ampersand_symbol, is_hash_symbol, is_colon_symbol, is_equals_symbol, is_bar_symbol, is_unreadable_unit, is_escape, is_dollar_before_blank}
use Rattle.mk_class.specs.Symbols.Symbol.{Hash, Colon, Semicolon, Equals, Plus, Question, Exclamation, Bar, Ampersand, NoSymbol}
use Rattle.mk_class.proofs.on_symbols.SymbolLemmas.{symbol-unit}
use Rattle.mk_class.proofs.on_symbols.SymbolMaps.{symbol-map, is_ampersand-map, is_unreadable_unit-map}
use Rattle.mk_class.specs.CutTexts.{is_in_head, is_no_hash, is_head_end_symbol}
use Rattle.mk_class.specs.AssignmentsAtEquals.{is_no_equals}
use Rattle.mk_class.specs.Headers.{is_no_colon, is_no_bar}
use Rattle.mk_class.specs.Arguments.{is_barred_byte, is_clean, is_backslash_byte, is_ampersand_byte, ends_word_symbol, ends_word, is_word}
use Rattle.mk_class.proofs.on_assignments.ValueLemmas.{clean-no_stray}
use Rattle.mk_edit_language.proofs.on_lines.HeadUnits.{IsSolid, first_units-are_head_units}
use Rattle.mk_edit_language.proofs.on_lines.HeadWords.{word-solid, last-more, last-append}

-- ---- units that a new rule may have

-- whether a unit may stand in the line of a new rule, other than its separator: it is no symbol that ends a word, and may be
-- read
abbrev pub is_rule_unit : {A : Type 0} → (A → ℕ) → List A → Bool
is_rule_unit byte u = not (ends_word_symbol (symbol byte u) || is_unreadable_unit byte u)

-- what is known of a symbol that does not end a word
record EndsNoWord (s : Symbol) : Type 0 where
  hash : is_hash_symbol s ≡ false
  colon : is_colon_symbol s ≡ false
  equals : is_equals_symbol s ≡ false
  bar : is_bar_symbol s ≡ false
  head_end : is_head_end_symbol s ≡ false

ends-no_word : (s : Symbol) → ends_word_symbol s ≡ false → EndsNoWord s
ends-no_word Hash h = absurd (cc)
ends-no_word Colon h = absurd (cc)
ends-no_word Semicolon h = absurd (cc)
ends-no_word Equals h = absurd (cc)
ends-no_word Bar h = absurd (cc)
ends-no_word Plus h = record { hash = refl; colon = refl; equals = refl; bar = refl; head_end = refl }
ends-no_word Question h = record { hash = refl; colon = refl; equals = refl; bar = refl; head_end = refl }
ends-no_word Exclamation h = record { hash = refl; colon = refl; equals = refl; bar = refl; head_end = refl }
ends-no_word Ampersand h = record { hash = refl; colon = refl; equals = refl; bar = refl; head_end = refl }
ends-no_word NoSymbol h = record { hash = refl; colon = refl; equals = refl; bar = refl; head_end = refl }

module _ {A : Type 0} (byte : A → ℕ) where
  -- what units of a new rule are
  pub record AreRuleUnits (us : List (List A)) : Type 0 where
    pub in_head : Each (is_in_head byte) us
    pub no_hash : Each (is_no_hash byte) us
    pub no_colon : Each (is_no_colon byte) us
    pub no_equals : Each (is_no_equals byte) us
    pub no_bar : Each (is_no_bar byte) us
    pub readable : list_any (λ u. is_equals byte u || is_unreadable_unit byte u) us ≡ false

  pub rule_units-are : (us : List (List A)) → Each (is_rule_unit byte) us → AreRuleUnits us
  rule_units-are [] h = record { in_head = tt; no_hash = tt; no_colon = tt; no_equals = tt; no_bar = tt; readable = refl }
  rule_units-are (u ∷ us) h =
      let r = rule_units-are us h.1 in
      let p = or_parts (ends_word_symbol (symbol byte u)) (is_unreadable_unit byte u) (not-true _ h.0) in
      let b = ends-no_word (symbol byte u) p.0 in
      record {
        in_head = (ap not b.head_end, r.in_head);
        no_hash = (ap not b.hash, r.no_hash);
        no_colon = (ap not b.colon, r.no_colon);
        no_equals = (ap not b.equals, r.no_equals);
        no_bar = (ap not b.bar, r.no_bar);
        readable = rw (b.equals, p.1) r.readable;
      }

-- ---- the units of a word

-- whether a unit may stand in a word that is written
abbrev is_word_unit : {A : Type 0} → (A → ℕ) → List A → Bool
is_word_unit byte u = not (is_gap byte u) && is_rule_unit byte u

word_unit : (u : List ℕ) → ends_word u ≡ false → is_unclosed_unit (λ b. b) u ≡ false → is_word_unit (λ b. b) u ≡ true
word_unit u h k =
    let p = or_parts (is_gap (λ b. b) u) _ h in
    let q = or_parts (ends_word_symbol (symbol (λ b. b) u)) _ p.1 in
    let r = or_parts (is_escape (λ b. b) u) (is_dollar_before_blank (λ b. b) u) q.1 in
    rw (p.0, q.0, r.0, r.1, k) refl

word_units : (us : List (List ℕ)) → list_any ends_word us ≡ false → leaves_open (λ b. b) us ≡ false → Each (is_word_unit (λ b. b)) us
word_units [] h k = tt
word_units (u ∷ []) h k =
    (word_unit u ((or_parts (ends_word u) false h).0) ((or_parts (is_unclosed_unit (λ b. b) u) (is_lone_backslash (λ b. b) u) k).0), tt)
word_units (u ∷ v ∷ us) h k =
    let p = or_parts (ends_word u) (list_any ends_word (v ∷ us)) h in
    let q = or_parts (is_unclosed_unit (λ b. b) u) (leaves_open (λ b. b) (v ∷ us)) k in
    (word_unit u p.0 q.0, word_units (v ∷ us) p.1 q.1)

-- the units of a word, as units of cells
abbrev pub cell_units : List ℕ → List (List Cell)
cell_units w = units joined_byte (map Byte w)

cell_units-are : (w : List ℕ) → cell_units w ≡ map (map Byte) (units (λ b. b) w)
cell_units-are w = units-map Byte joined_byte w

word_unit-cells : (u : List ℕ) → is_word_unit joined_byte (map Byte u) ≡ is_word_unit (λ b. b) u
word_unit-cells u = rw (is_gap-map Byte joined_byte u, symbol-map Byte joined_byte u, is_unreadable_unit-map Byte joined_byte u) refl

word_units-cells : (us : List (List ℕ)) → Each (is_word_unit (λ b. b)) us → Each (is_word_unit joined_byte) (map (map Byte) us)
word_units-cells [] h = tt
word_units-cells (u ∷ us) h = (word_unit-cells u ∙ h.0, word_units-cells us h.1)

no_gaps-word : (us : List (List Cell)) → Each (is_word_unit joined_byte) us → is_empty us ≡ false → IsWord joined_byte us
no_gaps-word [] h k = cc
no_gaps-word (u ∷ []) h k = not-true _ ((and_parts (not (is_gap joined_byte u)) (is_rule_unit joined_byte u) h.0).0)
no_gaps-word (u ∷ v ∷ us) h k = (not-true _ ((and_parts (not (is_gap joined_byte u)) (is_rule_unit joined_byte u) h.0).0), no_gaps-word (v ∷ us) h.1 refl)

rule_units : (us : List (List Cell)) → Each (is_word_unit joined_byte) us → Each (is_rule_unit joined_byte) us
rule_units [] h = tt
rule_units (u ∷ us) h = ((and_parts (not (is_gap joined_byte u)) (is_rule_unit joined_byte u) h.0).1, rule_units us h.1)

concat-cell_units : (w : List ℕ) → concat (cell_units w) ≡ map Byte w
concat-cell_units w = concat-units joined_byte (map Byte w)

-- what is known of a word that an edit may write
pub record IsNewWord (w : List ℕ) : Type 0 where
  pub filled : is_empty w ≡ false
  pub clean : list_any is_barred_byte w ≡ false
  pub closed : is_closed joined_byte (map Byte w) ≡ true
  pub word : IsWord joined_byte (cell_units w)
  pub units : Each (is_rule_unit joined_byte) (cell_units w)
  pub no_backslash : last_passes is_backslash_byte w ≡ false

no_backslash-last : (w : List ℕ) → IsSolid (map Byte w) → last_passes is_backslash_byte w ≡ false
no_backslash-last w s =
    let test : Cell → Bool = λ c. is_backslash_kind (byte_kind (joined_byte c)) in
    sym (last_passes-map Byte is_backslash_byte test (λ b. refl) w)
    ∙ (ap (last_passes test) s.ends.is
    ∙ (last-more test s.ends.front (Byte s.ends.last) [] ∙ ap is_backslash_kind s.ends.ordinary))

filled-units : (w : List ℕ) → is_empty w ≡ false → is_empty (cell_units w) ≡ false
filled-units w h = go (cell_units w) (concat-cell_units w)
  where
    none : (w : List ℕ) → [] ≡ map Byte w → is_empty w ≡ true
    none [] e = refl
    none (b ∷ w) e = cc

    go : (us : List (List Cell)) → concat us ≡ map Byte w → is_empty us ≡ false
    go [] e = absurd (let k : false ≡ true = sym h ∙ none w e in cc)
    go (u ∷ us) e = refl

pub word-is_new : (w : List ℕ) → is_word w ≡ true → IsNewWord w
word-is_new w h =
    let a = and_parts (not (is_empty w)) _ h in
    let b = and_parts (is_clean w) _ a.1 in
    let c = and_parts (is_closed (λ b. b) w) (not (list_any ends_word (units (λ b. b) w))) b.1 in
    let clean = not-true (list_any is_barred_byte w) b.0 in
    let ends : leaves_open (λ b. b) (units (λ b. b) w) ≡ false = not-true _ (sym (is_closed-leaves_open (λ b. b) w) ∙ c.0) in
    let us : Each (is_word_unit joined_byte) (cell_units w) =
    subst (Each (is_word_unit joined_byte)) (sym (cell_units-are w)) (word_units-cells (units (λ b. b) w) (word_units (units (λ b. b) w) (not-true _ c.1) ends)) in
    let rs : Each (is_rule_unit joined_byte) (cell_units w) = rule_units (cell_units w) us in
    let B = rule_units-are joined_byte (cell_units w) rs in
    let word : IsWord joined_byte (cell_units w) = no_gaps-word (cell_units w) us (filled-units w (not-true _ a.0)) in
    let again : units joined_byte (concat (cell_units w ++ [])) ≡ cell_units w ++ [] =
    ap (λ z. units joined_byte (concat z)) (append-nil (cell_units w)) ∙ (ap (units joined_byte) (concat-cell_units w) ∙ sym (append-nil (cell_units w))) in
    let stray : has_stray (concat (cell_units w)) ≡ false = ap has_stray (concat-cell_units w) ∙ clean-no_stray w clean in
    let solid : IsSolid (map Byte w) = subst IsSolid (concat-cell_units w) (word-solid (cell_units w) word (first_units-are_head_units (cell_units w) [] again stray B.readable B.in_head)) in
    record {
      filled = not-true _ a.0;
      clean = clean;
      closed = is_closed-map Byte joined_byte w ∙ c.0;
      word = word;
      units = rs;
      no_backslash = no_backslash-last w solid;
    }

-- the text of its units
pub cell_units-text : (w : List ℕ) → map joined_byte (concat (cell_units w)) ≡ w
cell_units-text w = ap (map joined_byte) (concat-cell_units w) ∙ same w
  where
    same : (w : List ℕ) → map joined_byte (map Byte w) ≡ w
    same [] = refl
    same (b ∷ w) = ap (λ z. b ∷ z) (same w)

-- ---- targets

ampersand_symbol-is : (s : Symbol) → is_ampersand_symbol s ≡ true → s ≡ Ampersand
ampersand_symbol-is Hash h = cc
ampersand_symbol-is Colon h = cc
ampersand_symbol-is Semicolon h = cc
ampersand_symbol-is Equals h = cc
ampersand_symbol-is Plus h = cc
ampersand_symbol-is Question h = cc
ampersand_symbol-is Exclamation h = cc
ampersand_symbol-is Bar h = cc
ampersand_symbol-is Ampersand h = refl
ampersand_symbol-is NoSymbol h = cc

ampersand-last : (us : List (List ℕ)) → last_passes (is_ampersand (λ b. b)) us ≡ true → last_passes is_ampersand_byte (concat us) ≡ true
ampersand-last [] h = cc
ampersand-last (u ∷ []) h =
    let s = symbol-unit (λ b. b) u Ampersand (λ x. cc) (ampersand_symbol-is (symbol (λ b. b) u) h) in
    ap (λ z. last_passes is_ampersand_byte (z ++ [])) s.1 ∙ ap is_ampersand_byte s.2
ampersand-last (u ∷ v ∷ us) h = last-append is_ampersand_byte u (concat (v ∷ us)) (ampersand-last (v ∷ us) h)

-- the last unit of a target is no `&`
pub target-no_ampersand : (t : List ℕ) → last_passes is_ampersand_byte t ≡ false → last_passes (is_ampersand joined_byte) (cell_units t) ≡ false
target-no_ampersand t h =
    ap (last_passes (is_ampersand joined_byte)) (cell_units-are t)
    ∙ (last_passes-map (map Byte) (is_ampersand (λ b. b)) (is_ampersand joined_byte) (is_ampersand-map Byte joined_byte) (units (λ b. b) t)
    ∙ go (last_passes (is_ampersand (λ b. b)) (units (λ b. b) t)) refl)
  where
    go : (c : Bool) → last_passes (is_ampersand (λ b. b)) (units (λ b. b) t) ≡ c → c ≡ false
    go true e =
        let k : last_passes is_ampersand_byte t ≡ true = ap (last_passes is_ampersand_byte) (sym (concat-units (λ b. b) t)) ∙ ampersand-last (units (λ b. b) t) e in
        let x : true ≡ false = sym k ∙ h in
        cc
    go false e = refl
