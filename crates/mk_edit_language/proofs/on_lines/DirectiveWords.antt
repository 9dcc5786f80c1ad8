-- Which words keep a line from being a directive: the words up to the first with a `:`. Of these only what they say as keywords
-- and modifiers counts.
use Rattle.std.proofs.Common.{◌≡◌, refl, sym, ap, ◌∙◌, ℕ, List, [], ◌∷◌, ◌++◌, map, Bool, true, false, ◌||◌, ◌==◌, cond, Some, None, append_assoc}
use Rattle.std.specs.List.{list_any}
use Rattle.std.specs.Str.{bytes_eq}
use Rattle.std.proofs.lemmas.Bool.{or_parts}
use Rattle.std.proofs.lemmas.List.{append-nil, map-append}
use Rattle.std.specs.Prelude.{◌⊎◌, codes}
use mathlib.Core.Logic.{inl, inr}
use Rattle.mk_lines.specs.Lists.{concat}
use Rattle.mk_lines.proofs.on_lists.ListLemmas.{concat-append}
use Rattle.mk_lines.specs.Cells.{Cell, joined_byte}
use Rattle.mk_lines.specs.Words.{Token, Gap, Word, tokens, before_tokens, token_words, token_units, is_word_first, is_gap, IsWord, AreTokens}
use Rattle.mk_lines.proofs.on_units.TokenLemmas.{tokens-word}
use Rattle.mk_class.specs.Texts.{is_one_of, word_texts}
use Rattle.mk_class.proofs.on_assignments.AssignmentEqualsLemmas.{not_same}
use Rattle.mk_class.specs.Keywords.{Keyword, DefineWord, EndefWord, IfWord, ElseWord, EndifWord, DirectiveWord, UndefineWord, NoKeyword, keyword, first_keyword, after_modifiers, if_words, directive_words, modifier_words, is_reserved_word}
use Rattle.mk_class.specs.Classes.{Said}
use Rattle.mk_class.specs.Classes.Said.{DefineHead, If, Else, Endif, Directive}
use Rattle.mk_class.specs.ClassTable.{directive_by, directive, defines_prefix}

-- ---- what decides a directive

-- keywords alone say whether a line is a directive,
directive-cases : (k b : Keyword) (c : Bool) (ws ws' : List (List ℕ)) → ((directive_by k b c ws ≡ None) × (directive_by k b c ws' ≡ None)) ⊎ ((x : Said) × (directive_by k b c ws ≡ Some x))
directive-cases DefineWord DefineWord c ws ws' = inr (DefineHead (defines_prefix ws), refl)
directive-cases DefineWord EndefWord c ws ws' = inl (refl, refl)
directive-cases DefineWord IfWord c ws ws' = inl (refl, refl)
directive-cases DefineWord ElseWord c ws ws' = inl (refl, refl)
directive-cases DefineWord EndifWord c ws ws' = inl (refl, refl)
directive-cases DefineWord DirectiveWord c ws ws' = inl (refl, refl)
directive-cases DefineWord UndefineWord c ws ws' = inr (Directive, refl)
directive-cases DefineWord NoKeyword c ws ws' = inl (refl, refl)
directive-cases EndefWord DefineWord c ws ws' = inr (DefineHead (defines_prefix ws), refl)
directive-cases EndefWord EndefWord c ws ws' = inl (refl, refl)
directive-cases EndefWord IfWord c ws ws' = inl (refl, refl)
directive-cases EndefWord ElseWord c ws ws' = inl (refl, refl)
directive-cases EndefWord EndifWord c ws ws' = inl (refl, refl)
directive-cases EndefWord DirectiveWord c ws ws' = inl (refl, refl)
directive-cases EndefWord UndefineWord c ws ws' = inr (Directive, refl)
directive-cases EndefWord NoKeyword c ws ws' = inl (refl, refl)
directive-cases IfWord DefineWord c ws ws' = inr (DefineHead (defines_prefix ws), refl)
directive-cases IfWord EndefWord c ws ws' = inr (If, refl)
directive-cases IfWord IfWord c ws ws' = inr (If, refl)
directive-cases IfWord ElseWord c ws ws' = inr (If, refl)
directive-cases IfWord EndifWord c ws ws' = inr (If, refl)
directive-cases IfWord DirectiveWord c ws ws' = inr (If, refl)
directive-cases IfWord UndefineWord c ws ws' = inr (If, refl)
directive-cases IfWord NoKeyword c ws ws' = inr (If, refl)
directive-cases ElseWord DefineWord c ws ws' = inr (DefineHead (defines_prefix ws), refl)
directive-cases ElseWord EndefWord true ws ws' = inr (Else, refl)
directive-cases ElseWord EndefWord false ws ws' = inl (refl, refl)
directive-cases ElseWord IfWord true ws ws' = inr (Else, refl)
directive-cases ElseWord IfWord false ws ws' = inl (refl, refl)
directive-cases ElseWord ElseWord true ws ws' = inr (Else, refl)
directive-cases ElseWord ElseWord false ws ws' = inl (refl, refl)
directive-cases ElseWord EndifWord true ws ws' = inr (Else, refl)
directive-cases ElseWord EndifWord false ws ws' = inl (refl, refl)
directive-cases ElseWord DirectiveWord true ws ws' = inr (Else, refl)
directive-cases ElseWord DirectiveWord false ws ws' = inl (refl, refl)
directive-cases ElseWord UndefineWord true ws ws' = inr (Else, refl)
directive-cases ElseWord UndefineWord false ws ws' = inr (Directive, refl)
directive-cases ElseWord NoKeyword true ws ws' = inr (Else, refl)
directive-cases ElseWord NoKeyword false ws ws' = inl (refl, refl)
directive-cases EndifWord DefineWord c ws ws' = inr (DefineHead (defines_prefix ws), refl)
directive-cases EndifWord EndefWord true ws ws' = inr (Endif, refl)
directive-cases EndifWord EndefWord false ws ws' = inl (refl, refl)
directive-cases EndifWord IfWord true ws ws' = inr (Endif, refl)
directive-cases EndifWord IfWord false ws ws' = inl (refl, refl)
directive-cases EndifWord ElseWord true ws ws' = inr (Endif, refl)
directive-cases EndifWord ElseWord false ws ws' = inl (refl, refl)
directive-cases EndifWord EndifWord true ws ws' = inr (Endif, refl)
directive-cases EndifWord EndifWord false ws ws' = inl (refl, refl)
directive-cases EndifWord DirectiveWord true ws ws' = inr (Endif, refl)
directive-cases EndifWord DirectiveWord false ws ws' = inl (refl, refl)
directive-cases EndifWord UndefineWord true ws ws' = inr (Endif, refl)
directive-cases EndifWord UndefineWord false ws ws' = inr (Directive, refl)
directive-cases EndifWord NoKeyword true ws ws' = inr (Endif, refl)
directive-cases EndifWord NoKeyword false ws ws' = inl (refl, refl)
directive-cases DirectiveWord DefineWord c ws ws' = inr (DefineHead (defines_prefix ws), refl)
directive-cases DirectiveWord EndefWord c ws ws' = inr (Directive, refl)
directive-cases DirectiveWord IfWord c ws ws' = inr (Directive, refl)
directive-cases DirectiveWord ElseWord c ws ws' = inr (Directive, refl)
directive-cases DirectiveWord EndifWord c ws ws' = inr (Directive, refl)
directive-cases DirectiveWord DirectiveWord c ws ws' = inr (Directive, refl)
directive-cases DirectiveWord UndefineWord c ws ws' = inr (Directive, refl)
directive-cases DirectiveWord NoKeyword c ws ws' = inr (Directive, refl)
directive-cases UndefineWord DefineWord c ws ws' = inr (DefineHead (defines_prefix ws), refl)
directive-cases UndefineWord EndefWord c ws ws' = inl (refl, refl)
directive-cases UndefineWord IfWord c ws ws' = inl (refl, refl)
directive-cases UndefineWord ElseWord c ws ws' = inl (refl, refl)
directive-cases UndefineWord EndifWord c ws ws' = inl (refl, refl)
directive-cases UndefineWord DirectiveWord c ws ws' = inl (refl, refl)
directive-cases UndefineWord UndefineWord c ws ws' = inr (Directive, refl)
directive-cases UndefineWord NoKeyword c ws ws' = inl (refl, refl)
directive-cases NoKeyword DefineWord c ws ws' = inr (DefineHead (defines_prefix ws), refl)
directive-cases NoKeyword EndefWord c ws ws' = inl (refl, refl)
directive-cases NoKeyword IfWord c ws ws' = inl (refl, refl)
directive-cases NoKeyword ElseWord c ws ws' = inl (refl, refl)
directive-cases NoKeyword EndifWord c ws ws' = inl (refl, refl)
directive-cases NoKeyword DirectiveWord c ws ws' = inl (refl, refl)
directive-cases NoKeyword UndefineWord c ws ws' = inr (Directive, refl)
directive-cases NoKeyword NoKeyword c ws ws' = inl (refl, refl)

-- ---- words that say the same

-- whether a word is a modifier
abbrev pub is_modifier : List ℕ → Bool
is_modifier w = is_one_of w modifier_words

-- a word that is not reserved is no keyword and no modifier
pub not_reserved-keyword : (w : List ℕ) → is_reserved_word w ≡ false → (keyword w ≡ NoKeyword) × (is_modifier w ≡ false)
not_reserved-keyword w h =
    let a0 = or_parts (bytes_eq w (codes "ifeq")) _ h in
    let a1 = or_parts (bytes_eq w (codes "ifneq")) _ a0.1 in
    let a2 = or_parts (bytes_eq w (codes "ifdef")) _ a1.1 in
    let a3 = or_parts (bytes_eq w (codes "ifndef")) _ a2.1 in
    let a4 = or_parts (bytes_eq w (codes "else")) _ a3.1 in
    let a5 = or_parts (bytes_eq w (codes "endif")) _ a4.1 in
    let a6 = or_parts (bytes_eq w (codes "define")) _ a5.1 in
    let a7 = or_parts (bytes_eq w (codes "endef")) _ a6.1 in
    let a8 = or_parts (bytes_eq w (codes "undefine")) _ a7.1 in
    let a9 = or_parts (bytes_eq w (codes "include")) _ a8.1 in
    let b0 = or_parts (bytes_eq w (codes "-include")) _ a9.1 in
    let b1 = or_parts (bytes_eq w (codes "sinclude")) _ b0.1 in
    let b2 = or_parts (bytes_eq w (codes "load")) _ b1.1 in
    let b3 = or_parts (bytes_eq w (codes "-load")) _ b2.1 in
    let b4 = or_parts (bytes_eq w (codes "export")) _ b3.1 in
    let b5 = or_parts (bytes_eq w (codes "unexport")) _ b4.1 in
    let b6 = or_parts (bytes_eq w (codes "override")) _ b5.1 in
    let b7 = or_parts (bytes_eq w (codes "private")) _ b6.1 in
    let b8 = or_parts (bytes_eq w (codes "vpath")) _ b7.1 in
    (rw (a6.0, a7.0, a0.0, a1.0, a2.0, a3.0, a4.0, a5.0, a9.0, b0.0, b1.0, b4.0, b5.0, b8.0, b2.0, b3.0, a8.0) refl, rw (b6.0, b4.0, b7.0) refl)

-- a text with a `:`
abbrev HasColon : List ℕ → Type 0
HasColon x = (a c : List ℕ) × (x ≡ a ++ 58 ∷ c)

-- words that say the same as first words up to one with a `:`
pub data SaySame : List (List ℕ) → List (List ℕ) → Type 0 where
  AtColon : (x x' : List ℕ) (xs xs' : List (List ℕ)) → HasColon x → HasColon x' → SaySame (x ∷ xs) (x' ∷ xs')
  Then : (w w' : List ℕ) (ws ws' : List (List ℕ)) → keyword w ≡ keyword w' → is_modifier w ≡ is_modifier w' → SaySame ws ws' → SaySame (w ∷ ws) (w' ∷ ws')

-- a word with a `:` is none of some words that have no `:`
pub not_one_of : (a c : List ℕ) (ks : List (List ℕ)) → list_any (λ k. list_any (λ b. 58 == b) k) ks ≡ false → is_one_of (a ++ 58 ∷ c) ks ≡ false
not_one_of a c [] h = refl
not_one_of a c (k ∷ ks) h =
    let p = or_parts (list_any (λ b. 58 == b) k) (list_any (λ z. list_any (λ b. 58 == b) z) ks) h in
    ap (λ z. z || is_one_of (a ++ 58 ∷ c) ks) (not_same 58 a c k p.0) ∙ not_one_of a c ks p.1

colon-keyword : (x : List ℕ) → HasColon x → keyword x ≡ NoKeyword
colon-keyword x h =
    let a = h.0 in
    let c = h.1 in
    ap keyword h.2 ∙ (rw (
      not_same 58 a c (codes "define") refl,
      not_same 58 a c (codes "endef") refl,
      not_one_of a c if_words refl,
      not_same 58 a c (codes "else") refl,
      not_same 58 a c (codes "endif") refl,
      not_one_of a c directive_words refl,
      not_same 58 a c (codes "undefine") refl,
    ) refl)

-- a word with a `:` is no modifier
pub colon-no_modifier : (x : List ℕ) → HasColon x → is_modifier x ≡ false
colon-no_modifier x h = ap is_modifier h.2 ∙ not_one_of h.0 h.1 modifier_words refl

same-first : (ws ws' : List (List ℕ)) → SaySame ws ws' → first_keyword ws ≡ first_keyword ws'
same-first ws ws' (AtColon x x' xs xs' h k) = colon-keyword x h ∙ sym (colon-keyword x' k)
same-first ws ws' (Then w w' vs vs' h k s) = h

same-bare : (ws ws' : List (List ℕ)) → SaySame ws ws' → first_keyword (after_modifiers ws) ≡ first_keyword (after_modifiers ws')
same-bare ws ws' (AtColon x x' xs xs' h k) =
    ap (λ b. first_keyword (cond b (after_modifiers xs) (x ∷ xs))) (colon-no_modifier x h)
    ∙ (colon-keyword x h ∙ (sym (colon-keyword x' k) ∙ sym (ap (λ b. first_keyword (cond b (after_modifiers xs') (x' ∷ xs'))) (colon-no_modifier x' k))))
same-bare ws ws' (Then w w' vs vs' h k s) = go (is_modifier w) (is_modifier w') k (same-bare vs vs' s)
  where
    go : (b b' : Bool) → b ≡ b' → first_keyword (after_modifiers vs) ≡ first_keyword (after_modifiers vs')
        → first_keyword (cond b (after_modifiers vs) (w ∷ vs)) ≡ first_keyword (cond b' (after_modifiers vs') (w' ∷ vs'))
    go true true e i = i
    go false false e i = h
    go true false e i = cc
    go false true e i = cc

-- if two lists of words say the same, and the words of one are no directive, those of the other are none
pub same-no_directive : (c : Bool) (ws ws' : List (List ℕ)) → SaySame ws ws' → directive c ws ≡ None → directive c ws' ≡ None
same-no_directive c ws ws' s h = go (directive-cases (first_keyword ws) (first_keyword (after_modifiers ws)) c (after_modifiers ws) (after_modifiers ws'))
  where
    go : ((directive c ws ≡ None) × (directive_by (first_keyword ws) (first_keyword (after_modifiers ws)) c (after_modifiers ws') ≡ None)) ⊎ ((x : Said) × (directive c ws ≡ Some x))
        → directive c ws' ≡ None
    go (inl e) =
        ap (λ k. directive_by k (first_keyword (after_modifiers ws')) c (after_modifiers ws')) (sym (same-first ws ws' s))
        ∙ (ap (λ b. directive_by (first_keyword ws) b c (after_modifiers ws')) (sym (same-bare ws ws' s)) ∙ e.1)
    go (inr e) = let k : None ≡ Some (e.0) = sym h ∙ e.1 in absurd (cc)

-- ---- the words of a line up to its first `:`

-- two lists of targets, token by token: the gaps are the same, and the words say the same as first words
abbrev pub AlikeTokens : List (Token Cell) → List (Token Cell) → Type 0
AlikeTokens [] [] = Unit {0}
AlikeTokens (Gap u ∷ ts) (Gap u' ∷ ts') = AlikeTokens ts ts'
AlikeTokens (Word w ∷ ts) (Word w' ∷ ts') =
    (keyword (map joined_byte (concat w)) ≡ keyword (map joined_byte (concat w'))) × (is_modifier (map joined_byte (concat w)) ≡ is_modifier (map joined_byte (concat w'))) × AlikeTokens ts ts'
AlikeTokens ts ts' = ⊥

pub alike-itself : (ts : List (Token Cell)) → AlikeTokens ts ts
alike-itself [] = tt
alike-itself (Gap u ∷ ts) = alike-itself ts
alike-itself (Word w ∷ ts) = (refl, refl, alike-itself ts)

-- units whose first word has a `:`
pub record BeginsWithColon (us : List (List Cell)) : Type 0 where
  pub word : List (List Cell)
  pub rest : List (Token Cell)
  pub is : tokens joined_byte us ≡ Word word ∷ rest
  pub colon : HasColon (map joined_byte (concat word))

-- a word before such units is joined with their first word
pub word-glued : (w us : List (List Cell)) (v : List (List Cell)) (ts : List (Token Cell)) → IsWord joined_byte w → tokens joined_byte us ≡ Word v ∷ ts → tokens joined_byte (w ++ us) ≡ Word (w ++ v) ∷ ts
word-glued [] us v ts h e = absurd h
word-glued (u ∷ []) us v ts h e = ap (before_tokens (is_gap joined_byte u) u) e ∙ ap (λ z. before_tokens z u (Word v ∷ ts)) h
word-glued (u ∷ x ∷ w) us v ts h e = ap (before_tokens (is_gap joined_byte u) u) (word-glued (x ∷ w) us v ts h.1 e) ∙ ap (λ z. before_tokens z u (Word ((x ∷ w) ++ v) ∷ ts)) h.0

-- the joined word has a `:` if that word has one
pub glued-colon : (w v : List (List Cell)) → HasColon (map joined_byte (concat v)) → HasColon (map joined_byte (concat (w ++ v)))
glued-colon w v h = (
  map joined_byte (concat w) ++ h.0,
  h.1,
  ap (map joined_byte) (concat-append w v) ∙ (map-append joined_byte (concat w) (concat v) ∙ (ap (λ z. map joined_byte (concat w) ++ z) h.2 ∙ sym (append_assoc (map joined_byte (concat w)) h.0 (58 ∷ h.1)))),
)

text-of : (us : List (List Cell)) (ts : List (Token Cell)) → tokens joined_byte us ≡ ts → word_texts joined_byte us ≡ map (map joined_byte) (token_words ts)
text-of us ts h = ap (λ z. map (map joined_byte) (token_words z)) h

-- targets before units whose first word has a `:`
pub alike-say_same : (ts ts' : List (Token Cell)) (X X' : List (List Cell)) → AreTokens joined_byte ts → AreTokens joined_byte ts' → AlikeTokens ts ts' → BeginsWithColon X → BeginsWithColon X'
    → SaySame (word_texts joined_byte (token_units ts ++ X)) (word_texts joined_byte (token_units ts' ++ X'))
alike-say_same [] [] X X' a b s h k = rw (text-of X (Word h.word ∷ h.rest) h.is, text-of X' (Word k.word ∷ k.rest) k.is) (AtColon _ _ _ _ h.colon k.colon)
alike-say_same (Gap u ∷ ts) (Gap u' ∷ ts') X X' a b s h k =
    let e : word_texts joined_byte (u ∷ (token_units ts ++ X)) ≡ word_texts joined_byte (token_units ts ++ X) =
    ap (λ g. map (map joined_byte) (token_words (before_tokens g u (tokens joined_byte (token_units ts ++ X))))) a.0 in
    let f : word_texts joined_byte (u' ∷ (token_units ts' ++ X')) ≡ word_texts joined_byte (token_units ts' ++ X') =
    ap (λ g. map (map joined_byte) (token_words (before_tokens g u' (tokens joined_byte (token_units ts' ++ X'))))) b.0 in
    rw (e, f) (alike-say_same ts ts' X X' a.1 b.1 s h k)
alike-say_same (Word w ∷ []) (Word w' ∷ []) X X' a b s h k =
    let e = text-of ((w ++ []) ++ X) (Word (w ++ h.word) ∷ h.rest) (ap (λ z. tokens joined_byte (z ++ X)) (append-nil w) ∙ word-glued w X h.word h.rest a.0 h.is) in
    let f = text-of ((w' ++ []) ++ X') (Word (w' ++ k.word) ∷ k.rest) (ap (λ z. tokens joined_byte (z ++ X')) (append-nil w') ∙ word-glued w' X' k.word k.rest b.0 k.is) in
    rw (e, f) (AtColon _ _ _ _ (glued-colon w h.word h.colon) (glued-colon w' k.word k.colon))
alike-say_same (Word w ∷ Gap u ∷ ts) (Word w' ∷ Gap u' ∷ ts') X X' a b s h k =
    let e = apart w u ts X a.0 a.2.0 in
    let f = apart w' u' ts' X' b.0 b.2.0 in
    rw (e, f) (Then _ _ _ _ s.0 s.1 (alike-say_same (Gap u ∷ ts) (Gap u' ∷ ts') X X' a.2 b.2 s.2 h k))
  where
    apart : (w : List (List Cell)) (u : List Cell) (ts : List (Token Cell)) (X : List (List Cell)) → IsWord joined_byte w → is_gap joined_byte u ≡ true
        → word_texts joined_byte ((w ++ u ∷ token_units ts) ++ X) ≡ map joined_byte (concat w) ∷ word_texts joined_byte (u ∷ (token_units ts ++ X))
    apart w u ts X h g =
        text-of ((w ++ u ∷ token_units ts) ++ X) (Word w ∷ tokens joined_byte (u ∷ (token_units ts ++ X)))
        (ap (tokens joined_byte) (append_assoc w (u ∷ token_units ts) X)
        ∙ tokens-word joined_byte w (u ∷ (token_units ts ++ X)) (tokens joined_byte (u ∷ (token_units ts ++ X))) h refl
        (ap (λ z. is_word_first (before_tokens z u (tokens joined_byte (token_units ts ++ X)))) g))
alike-say_same (Word w ∷ Word v ∷ ts) ts' X X' a b s h k = absurd (let e : true ≡ false = a.1 in cc)
alike-say_same (Word w ∷ Gap u ∷ ts) (Word w' ∷ Word v' ∷ ts') X X' a b s h k = absurd s.2
alike-say_same (Word w ∷ Gap u ∷ ts) (Word w' ∷ []) X X' a b s h k = absurd s.2
alike-say_same (Word w ∷ []) (Word w' ∷ Gap u ∷ ts') X X' a b s h k = absurd s.2
alike-say_same (Word w ∷ []) (Word w' ∷ Word v ∷ ts') X X' a b s h k = absurd s.2
alike-say_same [] (Gap u ∷ ts') X X' a b s h k = absurd s
alike-say_same [] (Word w ∷ ts') X X' a b s h k = absurd s
alike-say_same (Gap u ∷ ts) [] X X' a b s h k = absurd s
alike-say_same (Gap u ∷ ts) (Word w ∷ ts') X X' a b s h k = absurd s
alike-say_same (Word w ∷ []) [] X X' a b s h k = absurd s
alike-say_same (Word w ∷ []) (Gap u ∷ ts') X X' a b s h k = absurd s
alike-say_same (Word w ∷ Gap x ∷ ts) [] X X' a b s h k = absurd s
alike-say_same (Word w ∷ Gap x ∷ ts) (Gap u ∷ ts') X X' a b s h k = absurd s
