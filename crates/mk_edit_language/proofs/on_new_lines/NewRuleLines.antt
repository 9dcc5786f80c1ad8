-- The line of a new rule: its words, joined by single spaces around its separator, are read again as they are.
use Rattle.std.proofs.Common.{◌≡◌, refl, sym, ap, ◌∙◌, ℕ, List, [], ◌∷◌, ◌++◌, map, Bool, true, false, not, ◌&&◌, ◌||◌, cond, append_assoc, None}
use Rattle.std.specs.List.{list_any}
use Rattle.std.specs.Prelude.{nat_lt}
use Rattle.std.proofs.lemmas.Bool.{or_parts, not-true}
use Rattle.std.proofs.lemmas.List.{append-nil, map-append}
use Rattle.mk_lines.specs.Lists.{concat, leading, after_leading, Each}
use Rattle.mk_lines.proofs.on_lists.ListLemmas.{Each-append, concat-append, leading-append_all}
use Rattle.mk_lines.specs.PhysicalLines.{line_end_bytes}
use Rattle.mk_lines.specs.LogicalLines.{has_no_line_end}
use Rattle.mk_lines.specs.Cells.{Cell, Byte, joined_byte, cells, line_cells}
use Rattle.mk_lines.proofs.on_cells.CellLemmas.{raw_text-bytes}
use Rattle.mk_lines.proofs.on_cells.LineCells.{HasNoLineEnd, AreLineCells, AreLineCells-cells, bytes-are_line_cells}
use Rattle.mk_lines.specs.Units.{units}
use Rattle.mk_lines.proofs.on_units.UnitLemmas.{units-append}
use Rattle.mk_lines.specs.Words.{Token, Gap, Word, tokens, token_words, token_units, is_word_first, is_gap, IsWord, AreTokens}
use Rattle.mk_lines.proofs.on_units.TokenLemmas.{tokens-word, tokens-token_units}
use Rattle.mk_lines.specs.declared.ends.End.{End}
use Rattle.mk_class.specs.ListTests.{is_empty, first_passes, last_passes}
use Rattle.mk_class.specs.Texts.{word_texts}
use Rattle.mk_class.specs.Symbols.{symbol, is_colon, is_bar, is_hash, is_ampersand, is_unreadable_unit, is_equals}
use Rattle.mk_class.specs.CutTexts.{cut_text, head, is_in_head, is_no_hash}
use Rattle.mk_class.specs.Keywords.{is_reserved_word, reserved_words}
use Rattle.mk_class.specs.Assignments.{assignment}
use Rattle.mk_class.specs.AssignmentsAtEquals.{is_no_equals}
use Rattle.mk_class.proofs.on_assignments.AssignmentEqualsLemmas.{no_assignment}
use Rattle.mk_class.specs.Arguments.{is_barred_byte, is_backslash_byte, is_ampersand_byte, is_clean}
use Rattle.mk_class.specs.Separators.{separated, has_colon, takes_assignment}
use Rattle.mk_class.specs.Headers.{Header, header, is_rough, is_no_colon}
use Rattle.mk_class.specs.HeaderFits.{FitsHeader, separator_symbols}
use Rattle.mk_class.proofs.on_headers.HeadersAgain.{header-again, separated-again}
use Rattle.mk_class.specs.Classes.{Class}
use Rattle.mk_class.specs.Classes.Class.{Header as HeaderLine}
use Rattle.mk_class.specs.RecipePrefix.{is_prefix_led}
use Rattle.mk_class.specs.Contexts.{Context}
use Rattle.mk_class.specs.ClassTable.{class_of, directive, plain_class, undefined_class, is_all_blanks, is_unreadable, rule_class, header_class, separated_class, assign_class, or_class}
use Rattle.mk_class.specs.declared.context.RuleFlag.{RuleFlag}
use Rattle.mk_class.specs.declared.context.RuleFlag.TheVariants.{Off, Rule, Unknown}
use Rattle.mk_class.proofs.on_assignments.ValueLemmas.{clean-no_stray}
use Rattle.mk_tree.specs.Items.{header_item}
use Rattle.mk_tree.specs.Items as item
use Rattle.mk_tree.proofs.on_changes.NewLineLemmas.{clean-no_line_end, new_line-clean}
use Rattle.mk_lines.specs.Spacing.{each_after_space, spaced_words}
use Rattle.mk_edit_language.specs.NewLines.{rule_separator_text}
use Rattle.mk_edit_language.specs.Changes.{separator_of}
use Rattle.mk_edit_language.specs.declared.edit.RuleSeparator.{RuleSeparator}
use Rattle.mk_edit_language.specs.declared.edit.RuleSeparator.TheVariants.{Single, Double}
use Rattle.mk_edit_language.proofs.on_lines.HeadWords.{last-more}
use Rattle.mk_edit_language.proofs.on_lines.DirectiveWords.{not_one_of, not_reserved-keyword}
use Rattle.mk_edit_language.proofs.on_prerequisites.NewWords.{is_rule_unit, rule_units-are, cell_units, cell_units-text, IsNewWord, target-no_ampersand}

-- a text that a line may have: no LF, CR or NUL, and no backslash last
pub record IsLineText (x : List ℕ) : Type 0 where
  pub clean : is_clean x ≡ true
  pub no_backslash : last_passes is_backslash_byte x ≡ false

-- ---- a word that is no directive

-- a line whose first word is not reserved is no directive
unreserved-no_directive : (c : Bool) (x : List ℕ) (ws : List (List ℕ)) → is_reserved_word x ≡ false → directive c (x ∷ ws) ≡ None
unreserved-no_directive c x ws h =
    let none = not_reserved-keyword x h in
    rw (none.1, none.0) refl

-- a word with a `:` is not reserved
colon-unreserved : (a c : List ℕ) → is_reserved_word (a ++ 58 ∷ c) ≡ false
colon-unreserved a c = not_one_of a c reserved_words refl

-- ---- tokens of the new line

-- each word after a space
abbrev spaced_tokens : List (List ℕ) → List (Token Cell)
spaced_tokens [] = []
spaced_tokens (w ∷ ws) = Gap (Byte 32 ∷ []) ∷ Word (cell_units w) ∷ spaced_tokens ws

-- the targets: the first word, and each other after a space
abbrev target_tokens : List ℕ → List (List ℕ) → List (Token Cell)
target_tokens t ts = Word (cell_units t) ∷ spaced_tokens ts

-- the units of a separator
abbrev colon_units : RuleSeparator → List (List Cell)
colon_units Single = (Byte 58 ∷ []) ∷ []
colon_units Double = (Byte 58 ∷ []) ∷ (Byte 58 ∷ []) ∷ []

-- words that an edit may write
abbrev pub AreNewWords : List (List ℕ) → Type 0
AreNewWords [] = Unit {0}
AreNewWords (w ∷ ws) = IsNewWord w × AreNewWords ws

-- targets end in no `&`
abbrev pub EndInNoAmpersand : List (List ℕ) → Type 0
EndInNoAmpersand [] = Unit {0}
EndInNoAmpersand (w ∷ ws) = (last_passes is_ampersand_byte w ≡ false) × EndInNoAmpersand ws

no_word_first : (ws : List (List ℕ)) → is_word_first (spaced_tokens ws) ≡ false
no_word_first [] = refl
no_word_first (w ∷ ws) = refl

spaced-are_tokens : (ws : List (List ℕ)) → AreNewWords ws → AreTokens joined_byte (spaced_tokens ws)
spaced-are_tokens [] h = tt
spaced-are_tokens (w ∷ ws) h = (refl, (h.0.word, no_word_first ws, spaced-are_tokens ws h.1))

spaced-rule_units : (ws : List (List ℕ)) → AreNewWords ws → Each (is_rule_unit joined_byte) (token_units (spaced_tokens ws))
spaced-rule_units [] h = tt
spaced-rule_units (w ∷ ws) h = (refl, Each-append (is_rule_unit joined_byte) (cell_units w) (token_units (spaced_tokens ws)) h.0.units (spaced-rule_units ws h.1))

spaced-texts : (ws : List (List ℕ)) → map (map joined_byte) (token_words (spaced_tokens ws)) ≡ ws
spaced-texts [] = refl
spaced-texts (w ∷ ws) = rw (cell_units-text w, spaced-texts ws) refl

-- the last of two lists, where neither last element passes
last-neither : {A : Type 0} (p : A → Bool) (a b : List A) → last_passes p a ≡ false → last_passes p b ≡ false → last_passes p (a ++ b) ≡ false
last-neither p a [] h k = ap (last_passes p) (append-nil a) ∙ h
last-neither p a (x ∷ b) h k = last-more p a x b ∙ k

spaced-no_ampersand : (ws : List (List ℕ)) → EndInNoAmpersand ws → last_passes (is_ampersand joined_byte) (token_units (spaced_tokens ws)) ≡ false
spaced-no_ampersand [] h = refl
spaced-no_ampersand (w ∷ ws) h =
    last-neither (is_ampersand joined_byte) ((Byte 32 ∷ []) ∷ []) (cell_units w ++ token_units (spaced_tokens ws)) refl
    (last-neither (is_ampersand joined_byte) (cell_units w) (token_units (spaced_tokens ws)) (target-no_ampersand w h.0) (spaced-no_ampersand ws h.1))

spaced-no_colon_first : (ws : List (List ℕ)) → first_passes (is_colon joined_byte) (token_units (spaced_tokens ws)) ≡ false
spaced-no_colon_first [] = refl
spaced-no_colon_first (w ∷ ws) = refl

-- ---- its units

spaced-units : (ws : List (List ℕ)) → AreNewWords ws → (rest : List Cell) → units joined_byte (map Byte (each_after_space ws) ++ rest) ≡ token_units (spaced_tokens ws) ++ units joined_byte rest
spaced-units [] h rest = refl
spaced-units (v ∷ ws) h rest =
    let split : map Byte (v ++ each_after_space ws) ++ rest ≡ map Byte v ++ (map Byte (each_after_space ws) ++ rest) =
    ap (λ z. z ++ rest) (map-append Byte v (each_after_space ws)) ∙ append_assoc (map Byte v) (map Byte (each_after_space ws)) rest in
    units-append joined_byte (Byte 32 ∷ []) (map Byte (v ++ each_after_space ws) ++ rest) refl
    ∙ ap (λ z. (Byte 32 ∷ []) ∷ z) (
    ap (units joined_byte) split
    ∙ (units-append joined_byte (map Byte v) (map Byte (each_after_space ws) ++ rest) h.0.closed
    ∙ (ap (λ z. cell_units v ++ z) (spaced-units ws h.1 rest) ∙ sym (append_assoc (cell_units v) (token_units (spaced_tokens ws)) (units joined_byte rest))))
    )

colons-units : (c : RuleSeparator) (rest : List Cell) → units joined_byte (map Byte (rule_separator_text c) ++ rest) ≡ colon_units c ++ units joined_byte rest
colons-units Single rest = units-append joined_byte (Byte 58 ∷ []) rest refl
colons-units Double rest = units-append joined_byte (Byte 58 ∷ Byte 58 ∷ []) rest refl

-- the text of a new rule, of the words of its arguments
abbrev pub text_of_rule : (targets : List (List ℕ)) → RuleSeparator → (prereqs : List (List ℕ)) → List ℕ
text_of_rule ts c ws = spaced_words ts ++ (rule_separator_text c ++ each_after_space ws)

-- the units of the line
abbrev rule_units_of : List ℕ → List (List ℕ) → RuleSeparator → List (List ℕ) → List (List Cell)
rule_units_of t ts c ws = token_units (target_tokens t ts) ++ (colon_units c ++ (token_units (spaced_tokens ws) ++ []))

line-units : (t : List ℕ) (ts : List (List ℕ)) (c : RuleSeparator) (ws : List (List ℕ)) → IsNewWord t → AreNewWords ts → AreNewWords ws
    → units joined_byte (map Byte (text_of_rule (t ∷ ts) c ws)) ≡ rule_units_of t ts c ws
line-units t ts c ws h k l =
    let X = map Byte (each_after_space ts) in
    let C = map Byte (rule_separator_text c) in
    let N = map Byte (each_after_space ws) in
    let T = token_units (spaced_tokens ts) in
    let text : map Byte (text_of_rule (t ∷ ts) c ws) ≡ map Byte t ++ (X ++ (C ++ (N ++ []))) =
    map-append Byte (t ++ each_after_space ts) (rule_separator_text c ++ each_after_space ws)
    ∙ (ap (λ z. z ++ map Byte (rule_separator_text c ++ each_after_space ws)) (map-append Byte t (each_after_space ts))
    ∙ (ap (λ z. (map Byte t ++ X) ++ z) (map-append Byte (rule_separator_text c) (each_after_space ws))
    ∙ (append_assoc (map Byte t) X (C ++ N) ∙ ap (λ z. map Byte t ++ (X ++ (C ++ z))) (sym (append-nil N))))) in
    ap (units joined_byte) text
    ∙ (units-append joined_byte (map Byte t) (X ++ (C ++ (N ++ []))) h.closed
    ∙ (ap (λ z. cell_units t ++ z) (spaced-units ts k (C ++ (N ++ [])) ∙ ap (λ z. T ++ z) (colons-units c (N ++ []) ∙ ap (λ z. colon_units c ++ z) (spaced-units ws l [])))
    ∙ sym (append_assoc (cell_units t) T (colon_units c ++ (token_units (spaced_tokens ws) ++ [])))))

-- ---- its parts

-- the header that the line is
abbrev pub new_rule : List ℕ → List (List ℕ) → RuleSeparator → List (List ℕ) → Header Cell
new_rule t ts c ws = record {
  separator = separator_of c;
  targets = token_units (target_tokens t ts);
  colons = colon_units c;
  pattern = [];
  second_colon = [];
  normal = token_units (spaced_tokens ws);
  bar = [];
  order_only = [];
  tail = [];
}

-- what is known of the words of a new rule
pub record AreRuleWords (t : List ℕ) (ts ws : List (List ℕ)) : Type 0 where
  pub first : IsNewWord t
  pub others : AreNewWords ts
  pub prereqs : AreNewWords ws
  pub ends : EndInNoAmpersand (t ∷ ts)
  pub unreserved : is_reserved_word t ≡ false

targets-are_tokens : (t : List ℕ) (ts : List (List ℕ)) → IsNewWord t → AreNewWords ts → AreTokens joined_byte (target_tokens t ts)
targets-are_tokens t ts h k = (h.word, no_word_first ts, spaced-are_tokens ts k)

targets-rule_units : (t : List ℕ) (ts : List (List ℕ)) → IsNewWord t → AreNewWords ts → Each (is_rule_unit joined_byte) (token_units (target_tokens t ts))
targets-rule_units t ts h k = Each-append (is_rule_unit joined_byte) (cell_units t) (token_units (spaced_tokens ts)) h.units (spaced-rule_units ts k)

colons-in_head : (c : RuleSeparator) → Each (is_in_head joined_byte) (colon_units c)
colons-in_head Single = (refl, tt)
colons-in_head Double = (refl, (refl, tt))

colons-no_hash : (c : RuleSeparator) → Each (is_no_hash joined_byte) (colon_units c)
colons-no_hash Single = (refl, tt)
colons-no_hash Double = (refl, (refl, tt))

colons-no_equals : (c : RuleSeparator) → Each (is_no_equals joined_byte) (colon_units c)
colons-no_equals Single = (refl, tt)
colons-no_equals Double = (refl, (refl, tt))

three-each : (p : List Cell → Bool) (X C N : List (List Cell)) → Each p X → Each p C → Each p N → Each p (X ++ (C ++ (N ++ [])))
three-each p X C N h k l = Each-append p X (C ++ (N ++ [])) h (Each-append p C (N ++ []) k (Each-append p N [] l tt))

rule-fits : (t : List ℕ) (ts : List (List ℕ)) (c : RuleSeparator) (ws : List (List ℕ)) → AreRuleWords t ts ws → FitsHeader joined_byte (new_rule t ts c ws)
rule-fits t ts c ws W =
    let X = token_units (target_tokens t ts) in
    let N = token_units (spaced_tokens ws) in
    let x = rule_units-are joined_byte X (targets-rule_units t ts W.first W.others) in
    let n = rule_units-are joined_byte N (spaced-rule_units ws W.prereqs) in
    record {
      in_head = three-each (is_in_head joined_byte) X (colon_units c) N x.in_head (colons-in_head c) n.in_head;
      tail_ends = tt;
      no_colon = x.no_colon;
      targets_apart = ap (λ z. z && first_passes (is_colon joined_byte) (colon_units c)) (last-neither (is_ampersand joined_byte) (cell_units t) (token_units (spaced_tokens ts)) (target-no_ampersand t W.ends.0) (spaced-no_ampersand ts W.ends.1));
      colons_are = colons c;
      rest_apart = ap (first_passes (is_colon joined_byte)) (append-nil N) ∙ spaced-no_colon_first ws;
      pattern_fits = (refl, Each-append (is_no_colon joined_byte) N [] n.no_colon tt);
      no_bar = n.no_bar;
      bar_fits = refl;
    }
  where
    colons : (c : RuleSeparator) → map (symbol joined_byte) (colon_units c) ≡ separator_symbols (separator_of c)
    colons Single = refl
    colons Double = refl

-- no cause makes it Rough
any-append : {A : Type 0} (p : A → Bool) (a b : List A) → list_any p a ≡ false → list_any p b ≡ false → list_any p (a ++ b) ≡ false
any-append p [] b h k = k
any-append p (x ∷ a) b h k = let q = or_parts (p x) (list_any p a) h in rw (q.0) (any-append p a b q.1 k)

none-of : {A : Type 0} (p : A → Bool) (xs : List A) → Each (λ x. not (p x)) xs → list_any p xs ≡ false
none-of p [] h = refl
none-of p (x ∷ xs) h = go (p x) h.0 (none-of p xs h.1)
  where
    go : (b : Bool) → not b ≡ true → list_any p xs ≡ false → (b || list_any p xs) ≡ false
    go true e k = cc
    go false e k = k

rule-not_rough : (t : List ℕ) (ts : List (List ℕ)) (c : RuleSeparator) (ws : List (List ℕ)) → AreRuleWords t ts ws → is_rough joined_byte (rule_units_of t ts c ws) (new_rule t ts c ws) ≡ false
rule-not_rough t ts c ws W =
    let X = token_units (target_tokens t ts) in
    let N = token_units (spaced_tokens ws) in
    let x = rule_units-are joined_byte X (targets-rule_units t ts W.first W.others) in
    let n = rule_units-are joined_byte N (spaced-rule_units ws W.prereqs) in
    let test : List Cell → Bool = λ u. is_equals joined_byte u || is_unreadable_unit joined_byte u in
    let readable : list_any test (X ++ (colon_units c ++ (N ++ []))) ≡ false =
    any-append test X (colon_units c ++ (N ++ [])) x.readable (any-append test (colon_units c) (N ++ []) (colons c) (any-append test N [] n.readable refl)) in
    let no_colon : list_any (is_colon joined_byte) N ≡ false = none-of (is_colon joined_byte) N n.no_colon in
    let no_bar : list_any (is_bar joined_byte) X ≡ false = none-of (is_bar joined_byte) X x.no_bar in
    rw (readable, no_colon, no_bar) refl
  where
    colons : (c : RuleSeparator) → list_any (λ u. is_equals joined_byte u || is_unreadable_unit joined_byte u) (colon_units c) ≡ false
    colons Single = refl
    colons Double = refl

-- ---- its class

-- the first word of the line: the first target, with the separator if there is no other target
first_word : (t : List ℕ) (ts : List (List ℕ)) (c : RuleSeparator) (ws : List (List ℕ)) → AreRuleWords t ts ws
    → (x : List ℕ) × (rest : List (List ℕ)) × (word_texts joined_byte (rule_units_of t ts c ws) ≡ x ∷ rest) × (is_reserved_word x ≡ false)
first_word t [] c ws W =
    let N = token_units (spaced_tokens ws) in
    let w = cell_units t ++ colon_units c in
    let us : rule_units_of t [] c ws ≡ w ++ (N ++ []) =
    ap (λ z. z ++ (colon_units c ++ (N ++ []))) (append-nil (cell_units t)) ∙ sym (append_assoc (cell_units t) (colon_units c) (N ++ [])) in
    let rest : tokens joined_byte (N ++ []) ≡ spaced_tokens ws = ap (tokens joined_byte) (append-nil N) ∙ tokens-token_units joined_byte (spaced_tokens ws) (spaced-are_tokens ws W.prereqs) in
    let cut : tokens joined_byte (w ++ (N ++ [])) ≡ Word w ∷ spaced_tokens ws = tokens-word joined_byte w (N ++ []) (spaced_tokens ws) (with_colons (cell_units t) c W.first.word) rest (no_word_first ws) in
    let text : map joined_byte (concat w) ≡ t ++ rule_separator_text c =
    ap (map joined_byte) (concat-append (cell_units t) (colon_units c))
    ∙ (map-append joined_byte (concat (cell_units t)) (concat (colon_units c)) ∙ (ap (λ z. z ++ map joined_byte (concat (colon_units c))) (cell_units-text t) ∙ ap (λ z. t ++ z) (colons c))) in (
      t ++ rule_separator_text c,
      ws,
      ap (word_texts joined_byte) us ∙ (ap (λ z. map (map joined_byte) (token_words z)) cut ∙ rw (text, spaced-texts ws) refl),
      unreserved c,
    )
  where
    colons : (c : RuleSeparator) → map joined_byte (concat (colon_units c)) ≡ rule_separator_text c
    colons Single = refl
    colons Double = refl

    unreserved : (c : RuleSeparator) → is_reserved_word (t ++ rule_separator_text c) ≡ false
    unreserved Single = colon-unreserved t []
    unreserved Double = colon-unreserved t (58 ∷ [])

    alone : (c : RuleSeparator) → IsWord joined_byte (colon_units c)
    alone Single = refl
    alone Double = (refl, refl)

    before : (u : List Cell) (us : List (List Cell)) → is_gap joined_byte u ≡ false → IsWord joined_byte us → IsWord joined_byte (u ∷ us)
    before u [] h k = absurd k
    before u (v ∷ us) h k = (h, k)

    with_colons : (us : List (List Cell)) (c : RuleSeparator) → IsWord joined_byte us → IsWord joined_byte (us ++ colon_units c)
    with_colons [] c h = absurd h
    with_colons (u ∷ []) c h = before u (colon_units c) h (alone c)
    with_colons (u ∷ v ∷ us) c h = before u ((v ∷ us) ++ colon_units c) h.0 (with_colons (v ∷ us) c h.1)
first_word t (t' ∷ ts) c ws W =
    let g = Byte 32 ∷ [] in
    let us = (cell_units t' ++ token_units (spaced_tokens ts)) ++ (colon_units c ++ (token_units (spaced_tokens ws) ++ [])) in
    let whole : rule_units_of t (t' ∷ ts) c ws ≡ cell_units t ++ g ∷ us =
    append_assoc (cell_units t) (g ∷ (cell_units t' ++ token_units (spaced_tokens ts))) (colon_units c ++ (token_units (spaced_tokens ws) ++ [])) in
    let cut : tokens joined_byte (cell_units t ++ g ∷ us) ≡ Word (cell_units t) ∷ Gap g ∷ tokens joined_byte us = tokens-word joined_byte (cell_units t) (g ∷ us) (Gap g ∷ tokens joined_byte us) W.first.word refl refl in (
      t,
      map (map joined_byte) (token_words (tokens joined_byte us)),
      ap (word_texts joined_byte) whole ∙ (ap (λ z. map (map joined_byte) (token_words z)) cut ∙ ap (λ z. z ∷ map (map joined_byte) (token_words (tokens joined_byte us))) (cell_units-text t)),
      W.unreserved,
    )

no_directive : (d : Bool) (us : List (List Cell)) (x : List ℕ) (rest : List (List ℕ)) → word_texts joined_byte us ≡ x ∷ rest → is_reserved_word x ≡ false → directive d (word_texts joined_byte us) ≡ None
no_directive d us x rest h k = ap (directive d) h ∙ unreserved-no_directive d x rest k

first-no_gap : (us rest : List (List Cell)) → IsWord joined_byte us → is_empty (after_leading (is_gap joined_byte) (us ++ rest)) ≡ false
first-no_gap [] rest h = absurd h
first-no_gap (u ∷ []) rest h = rw h refl
first-no_gap (u ∷ v ∷ us) rest h = rw (h.0) refl

has-colon : (X : List (List Cell)) (c : RuleSeparator) (rest : List (List Cell)) → has_colon joined_byte (X ++ (colon_units c ++ rest)) ≡ true
has-colon [] Single rest = refl
has-colon [] Double rest = refl
has-colon (u ∷ X) c rest = rw (has-colon X c rest) (or-true (is_colon joined_byte u))
  where
    or-true : (b : Bool) → (b || true) ≡ true
    or-true true = refl
    or-true false = refl

takes : (c : RuleSeparator) → takes_assignment (separator_of c) ≡ true
takes Single = refl
takes Double = refl

-- the class of a line outside defines that does not begin with the prefix: `z` is its cut text, `b` says whether its head has a
-- `:`, and `r` is the class that it has if its head has one
abbrev plain_by : Bool → List Cell → (us z : List (List Cell)) → (b : Bool) → (r : Class Cell) → Class Cell
plain_by d cs us z b r =
    cond (is_all_blanks joined_byte z) (cond (list_any (is_hash joined_byte) us) Class.Comment Class.Blank) (
    cond (is_unreadable cs) Class.Opaque (
    assign_class joined_byte d (assignment joined_byte z) (or_class (directive d (word_texts joined_byte z)) (cond (not b) Class.Opaque r))))

plain-rule_class : (d : Bool) (cs : List Cell) (us z : List (List Cell)) (b : Bool) (r : Class Cell) → is_all_blanks joined_byte z ≡ false → is_unreadable cs ≡ false → assignment joined_byte z ≡ None
    → directive d (word_texts joined_byte z) ≡ None → b ≡ true → plain_by d cs us z b r ≡ r
plain-rule_class d cs us z b r h i j k l = rw (h, i, j, k, l) refl

plain-cut : (d : Bool) (cs : List Cell) (us : List (List Cell)) → plain_class joined_byte false d (is_unreadable cs) us ≡ plain_by d cs us (cut_text joined_byte us) (has_colon joined_byte (head joined_byte us)) (rule_class joined_byte us)
plain-cut d cs us = refl

-- the class of its units, outside defines
rule-plain_class : (t : List ℕ) (ts : List (List ℕ)) (c : RuleSeparator) (ws : List (List ℕ)) (d : Bool) (cs : List Cell) → AreRuleWords t ts ws → is_unreadable cs ≡ false
    → plain_class joined_byte false d (is_unreadable cs) (rule_units_of t ts c ws) ≡ HeaderLine (new_rule t ts c ws)
rule-plain_class t ts c ws d cs W r =
    let X = token_units (target_tokens t ts) in
    let N = token_units (spaced_tokens ws) in
    let us = rule_units_of t ts c ws in
    let h = new_rule t ts c ws in
    let x = rule_units-are joined_byte X (targets-rule_units t ts W.first W.others) in
    let n = rule_units-are joined_byte N (spaced-rule_units ws W.prereqs) in
    let F = rule-fits t ts c ws W in
    let cut : cut_text joined_byte us ≡ us =
    ap (leading (is_no_hash joined_byte)) (sym (append-nil us)) ∙ leading-append_all (is_no_hash joined_byte) us [] (three-each (is_no_hash joined_byte) X (colon_units c) N x.no_hash (colons-no_hash c) n.no_hash) tt in
    let front : head joined_byte us ≡ us =
    ap (leading (is_in_head joined_byte)) (sym (append-nil us)) ∙ leading-append_all (is_in_head joined_byte) us [] F.in_head tt in
    let filled : is_all_blanks joined_byte us ≡ false =
    ap (λ z. is_empty (after_leading (is_gap joined_byte) z)) (append_assoc (cell_units t) (token_units (spaced_tokens ts)) (colon_units c ++ (N ++ [])))
    ∙ first-no_gap (cell_units t) (token_units (spaced_tokens ts) ++ (colon_units c ++ (N ++ []))) W.first.word in
    let none : assignment joined_byte us ≡ None = no_assignment joined_byte us (three-each (is_no_equals joined_byte) X (colon_units c) N x.no_equals (colons-no_equals c) n.no_equals) in
    let word = first_word t ts c ws W in
    let plain : directive d (word_texts joined_byte us) ≡ None = no_directive d us word.0 word.1 word.2 word.3 in
    let colon : has_colon joined_byte us ≡ true = has-colon X c (N ++ []) in
    let apart : separated joined_byte us ≡ record { separator = separator_of c; targets = X; colons = colon_units c; rest = N ++ [] } =
    separated-again joined_byte (separator_of c) X (colon_units c) (N ++ []) F.no_colon F.targets_apart F.colons_are F.rest_apart in
    let rest : assignment joined_byte (N ++ []) ≡ None = no_assignment joined_byte (N ++ []) (Each-append (is_no_equals joined_byte) N [] n.no_equals tt) in
    let whole : header joined_byte us ≡ h = header-again joined_byte h F in
    let class : header_class joined_byte us ≡ HeaderLine h =
    ap (λ z. cond (is_rough joined_byte z (header joined_byte us)) Class.Rough (HeaderLine (header joined_byte us))) front
    ∙ (ap (λ z. cond (is_rough joined_byte us z) Class.Rough (HeaderLine z)) whole
    ∙ ap (λ z. cond z Class.Rough (HeaderLine h)) (rule-not_rough t ts c ws W)) in
    let rule : rule_class joined_byte us ≡ HeaderLine h =
    ap (λ z. separated_class joined_byte (separated joined_byte z) us) cut ∙ (ap (λ z. separated_class joined_byte z us) apart ∙ rw (takes c, rest) class) in
    plain-cut d cs us
    ∙ (ap (λ z. plain_by d cs us z (has_colon joined_byte (head joined_byte us)) (rule_class joined_byte us)) cut
    ∙ (plain-rule_class d cs us us (has_colon joined_byte (head joined_byte us)) (rule_class joined_byte us) filled r none plain (ap (has_colon joined_byte) front ∙ colon) ∙ rule))

-- What a new rule is: a text that a line may have, and, with a line end, a line of class Header outside defines, unless it
-- begins with the prefix; and its item has the words.
pub record IsNewRule (t : List ℕ) (ts : List (List ℕ)) (c : RuleSeparator) (ws : List (List ℕ)) : Type 0 where
  pub text : IsLineText (text_of_rule (t ∷ ts) c ws)
  pub class : (C : Context) (e : End) → has_no_line_end e ≡ false → C.defines ≡ 0 → is_prefix_led C.prefix (text_of_rule (t ∷ ts) c ws) ≡ false
      → class_of C (text_of_rule (t ∷ ts) c ws ++ line_end_bytes e) ≡ HeaderLine (new_rule t ts c ws)
  pub item : header_item (new_rule t ts c ws) ≡ item.Header (t ∷ ts) (separator_of c) [] ws [] None

spaced-clean : (ws : List (List ℕ)) → AreNewWords ws → list_any is_barred_byte (each_after_space ws) ≡ false
spaced-clean [] h = refl
spaced-clean (w ∷ ws) h = any-append is_barred_byte w (each_after_space ws) h.0.clean (spaced-clean ws h.1)

spaced-no_backslash : (ws : List (List ℕ)) → AreNewWords ws → last_passes is_backslash_byte (each_after_space ws) ≡ false
spaced-no_backslash [] h = refl
spaced-no_backslash (w ∷ ws) h =
    last-neither is_backslash_byte (32 ∷ []) (w ++ each_after_space ws) refl
    (last-neither is_backslash_byte w (each_after_space ws) h.0.no_backslash (spaced-no_backslash ws h.1))

rule-text : (t : List ℕ) (ts : List (List ℕ)) (c : RuleSeparator) (ws : List (List ℕ)) → AreRuleWords t ts ws → IsLineText (text_of_rule (t ∷ ts) c ws)
rule-text t ts c ws W =
    let F = each_after_space ts in
    let N = each_after_space ws in
    record {
      clean = ap not (any-append is_barred_byte (t ++ F) (rule_separator_text c ++ N) (any-append is_barred_byte t F W.first.clean (spaced-clean ts W.others)) (any-append is_barred_byte (rule_separator_text c) N (clean c) (spaced-clean ws W.prereqs)));
      no_backslash = last-neither is_backslash_byte (t ++ F) (rule_separator_text c ++ N) (last-neither is_backslash_byte t F W.first.no_backslash (spaced-no_backslash ts W.others)) (last-neither is_backslash_byte (rule_separator_text c) N (last c) (spaced-no_backslash ws W.prereqs));
    }
  where
    clean : (c : RuleSeparator) → list_any is_barred_byte (rule_separator_text c) ≡ false
    clean Single = refl
    clean Double = refl

    last : (c : RuleSeparator) → last_passes is_backslash_byte (rule_separator_text c) ≡ false
    last Single = refl
    last Double = refl

led-longer : (p : ℕ) (t x y : List ℕ) → is_empty t ≡ false → is_prefix_led p ((t ++ x) ++ y) ≡ is_prefix_led p (t ++ x)
led-longer p [] x y h = cc
led-longer p (b ∷ t) x y h = refl

outside : (c : Context) (l : List ℕ) (k : Class Cell) → c.defines ≡ 0 → is_prefix_led c.prefix l ≡ false → plain_class joined_byte false (nat_lt 0 c.conditionals) (is_unreadable (line_cells l)) (units joined_byte (line_cells l)) ≡ k → class_of c l ≡ k
outside c l k d p h = rw (d, p) (go c.flag)
  where
    go : (f : RuleFlag) → undefined_class joined_byte false f (nat_lt 0 c.conditionals) (is_unreadable (line_cells l)) (units joined_byte (line_cells l)) ≡ k
    go Off = h
    go Rule = h
    go Unknown = h

-- the line of a new rule
pub new_rule-is : (t : List ℕ) (ts : List (List ℕ)) (c : RuleSeparator) (ws : List (List ℕ)) → AreRuleWords t ts ws → IsNewRule t ts c ws
new_rule-is t ts c ws W =
    let s = text_of_rule (t ∷ ts) c ws in
    let L = rule-text t ts c ws W in
    let n : HasNoLineEnd s = clean-no_line_end s L.clean in
    let A : AreLineCells (map Byte s) = bytes-are_line_cells s n in
    let same : cells s ≡ map Byte s = ap cells (sym (raw_text-bytes s)) ∙ AreLineCells-cells (map Byte s) A in
    let readable : is_unreadable (map Byte s) ≡ false = rw (clean-no_stray s (not-true (list_any is_barred_byte s) L.clean)) A.clean.1 in
    let split : s ≡ t ++ (each_after_space ts ++ (rule_separator_text c ++ each_after_space ws)) = append_assoc t (each_after_space ts) (rule_separator_text c ++ each_after_space ws) in
    record {
      text = L;
      class = λ C e k d p.
          let l = s ++ line_end_bytes e in
          let text : line_cells l ≡ map Byte s = ap cells (new_line-clean s e L.clean L.no_backslash k).same_text ∙ same in
          let led : is_prefix_led C.prefix l ≡ false =
          ap (λ z. is_prefix_led C.prefix (z ++ line_end_bytes e)) split
          ∙ (led-longer C.prefix t (each_after_space ts ++ (rule_separator_text c ++ each_after_space ws)) (line_end_bytes e) W.first.filled
          ∙ (ap (is_prefix_led C.prefix) (sym split) ∙ p)) in
          outside C l (HeaderLine (new_rule t ts c ws)) d led (
          ap (λ z. plain_class joined_byte false (nat_lt 0 C.conditionals) (is_unreadable z) (units joined_byte z)) text
          ∙ (ap (plain_class joined_byte false (nat_lt 0 C.conditionals) (is_unreadable (map Byte s))) (line-units t ts c ws W.first W.others W.prereqs)
          ∙ rule-plain_class t ts c ws (nat_lt 0 C.conditionals) (map Byte s) W readable));
      item = rw (
        tokens-token_units joined_byte (target_tokens t ts) (targets-are_tokens t ts W.first W.others),
        tokens-token_units joined_byte (spaced_tokens ws) (spaced-are_tokens ws W.prereqs),
        cell_units-text t,
        spaced-texts ts,
        spaced-texts ws,
      ) refl;
    }
