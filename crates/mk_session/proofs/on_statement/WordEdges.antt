-- What stands directly before and behind words in a line: blanks, folds, and the signs of operators and separators.
use Rattle.std.proofs.Common.{◌≡◌, refl, sym, ap, ◌∙◌, subst, arith, ℕ, ◌<◌, List, [], ◌∷◌, ◌++◌, map, take, drop, Bool, true, false, ◌||◌, ◌==◌, append_assoc, Option, Some, None, inl, inr}
use Rattle.std.specs.Prelude.{◌⊎◌, codes, Contains, nat_lt, if◌then◌else◌}
use Rattle.std.specs.List.{list_any}
use Rattle.std.specs.Str.{bytes_eq}
use Rattle.std.proofs.lemmas.Bool.{eqb-true}
use Rattle.std.proofs.lemmas.List.{append-nil}
use Rattle.std.proofs.lemmas.Slice.Eq.{bytes_eq-Decides}
use Rattle.mk_lines.specs.Lists.{concat, leading, after_leading, Each}
use Rattle.mk_lines.proofs.on_lists.ListLemmas.{concat-append, leading-each}
use Rattle.mk_lines.specs.Bytes.{ByteKind, byte_kind, is_blank_kind}
use Rattle.mk_lines.specs.Bytes.ByteKind.{LineFeed, CarriageReturn, Backslash, Blank, Ordinary}
use Rattle.mk_lines.specs.Cells.{Cell, Byte, Fold, LfEnd, CrLfEnd, joined_byte, raw_bytes, raw_text, is_blank_cell, prepend, cells}
use Rattle.mk_lines.proofs.on_cells.CellLemmas.{raw_text-append}
use Rattle.mk_lines.specs.Words.{Token, Gap, Word, tokens, token_words, token_units, is_word_first, is_gap, AreTokens}
use Rattle.mk_lines.proofs.on_units.TokenLemmas.{tokens-are_tokens}
use Rattle.mk_class.specs.ListTests.{until, from, first_passes}
use Rattle.mk_class.specs.Symbols.{Symbol, symbol}
use Rattle.mk_class.specs.Symbols.Symbol.{Hash, Colon, Semicolon, Equals, Plus, Question, Exclamation, Bar, Ampersand, NoSymbol}
use Rattle.mk_class.proofs.on_symbols.SymbolLemmas.{symbol_byte, symbol-unit}
use Rattle.mk_class.specs.declared.assignment.Flavor.{Flavor}
use Rattle.mk_class.specs.declared.assignment.Flavor.TheVariants as flavor
use Rattle.mk_class.specs.declared.assignment.Modifier.{Modifier}
use Rattle.mk_class.specs.Assignments.{Assignment, operator_at, operator_length, defined_by, definition, ends_name, after_blanks, blanks, modifier_of, after_units, after_modifier, assignment_of, assignment}
use Rattle.mk_edit_language.proofs.on_lines.HeaderParts.{one_byte}
use Rattle.mk_session.proofs.on_statement.CellTexts.{raw-units, solid-word}

-- ---- bytes by their kinds

-- which byte a kind is
abbrev pub IsOfKind : ByteKind → ℕ → Type 0
IsOfKind LineFeed b = b ≡ 10
IsOfKind CarriageReturn b = b ≡ 13
IsOfKind Backslash b = b ≡ 92
IsOfKind Blank b = (b ≡ 32) ⊎ (b ≡ 9)
IsOfKind Ordinary b = Unit {0}

pub kind-is : (b : ℕ) → IsOfKind (byte_kind b) b
kind-is b = go (b == 10) refl (b == 13) refl (b == 92) refl (b == 32) refl (b == 9) refl
  where
    go : (lf : Bool) → (b == 10) ≡ lf → (cr : Bool) → (b == 13) ≡ cr → (s : Bool) → (b == 92) ≡ s → (sp : Bool) → (b == 32) ≡ sp → (tab : Bool) → (b == 9) ≡ tab
        → IsOfKind (if lf then LineFeed else if cr then CarriageReturn else if s then Backslash else if sp then Blank else if tab then Blank else Ordinary) b
    go true e cr f s g sp i tab j = eqb-true b 10 e
    go false e true f s g sp i tab j = eqb-true b 13 f
    go false e false f true g sp i tab j = eqb-true b 92 g
    go false e false f false g true i tab j = inl (eqb-true b 32 i)
    go false e false f false g false i true j = inr (eqb-true b 9 j)
    go false e false f false g false i false j = tt

-- ---- texts that begin and end so

-- a byte that may stand behind a word
abbrev IsBehind : ℕ → Type 0
IsBehind x = Contains (9 ∷ 92 ∷ codes " !&+:=?") x

abbrev pub BeginsBehind : List ℕ → Type 0
BeginsBehind t = (x : ℕ) × (r : List ℕ) × (t ≡ x ∷ r) × IsBehind x

abbrev EndsLow : List ℕ → Type 0
EndsLow t = (f : List ℕ) × (y : ℕ) × (t ≡ f ++ y ∷ []) × (y < 33)

-- a text is empty, or ends in a blank or a line end
abbrev pub EndsBlank : List ℕ → Type 0
EndsBlank t = (t ≡ []) ⊎ EndsLow t

blank-behind : (b : ℕ) → (b ≡ 32) ⊎ (b ≡ 9) → IsBehind b
blank-behind b (inl e) = subst IsBehind (sym e) (2, omega arith, refl)
blank-behind b (inr e) = subst IsBehind (sym e) (0, omega arith, refl)

blank-low : (b : ℕ) → (b ≡ 32) ⊎ (b ≡ 9) → b < 33
blank-low b (inl e) = omega (arith, e)
blank-low b (inr e) = omega (arith, e)

pub begins-left : (a b : List ℕ) → BeginsBehind a → BeginsBehind (a ++ b)
begins-left a b h = (h.0, h.1 ++ b, ap (λ z. z ++ b) h.2, h.3)

low-right : (a b : List ℕ) → EndsLow b → EndsLow (a ++ b)
low-right a b h = (a ++ h.0, h.1, ap (λ z. a ++ z) h.2 ∙ sym (append_assoc a h.0 (h.1 ∷ [])), h.3)

-- ---- folds

abbrev IsEdged : Cell → Type 0
IsEdged (Byte b) = Unit {0}
IsEdged (Fold r) = BeginsBehind r × EndsLow r
IsEdged (LfEnd r) = EndsLow r
IsEdged (CrLfEnd r) = EndsLow r

-- folds begin and end so
abbrev pub AreEdged : List Cell → Type 0
AreEdged [] = Unit {0}
AreEdged (c ∷ cs) = IsEdged c × AreEdged cs

pub edged-left : (a b : List Cell) → AreEdged (a ++ b) → AreEdged a
edged-left [] b h = tt
edged-left (c ∷ a) b h = (h.0, edged-left a b h.1)

pub edged-right : (a b : List Cell) → AreEdged (a ++ b) → AreEdged b
edged-right [] b h = h
edged-right (c ∷ a) b h = edged-right a b h.1

blank_cell-low : (c : Cell) → IsEdged c → is_blank_cell c ≡ true → EndsLow (raw_bytes c)
blank_cell-low (Byte b) q h = ([], b, refl, blank-low b (go (byte_kind b) (kind-is b) h))
  where
    go : (k : ByteKind) → IsOfKind k b → is_blank_kind k ≡ true → (b ≡ 32) ⊎ (b ≡ 9)
    go Blank i e = i
    go LineFeed i e = absurd (cc)
    go CarriageReturn i e = absurd (cc)
    go Backslash i e = absurd (cc)
    go Ordinary i e = absurd (cc)
blank_cell-low (Fold r) q h = q.1
blank_cell-low (LfEnd r) q h = q
blank_cell-low (CrLfEnd r) q h = q

leading-low : (a : List ℕ) (cs : List Cell) → EndsLow a → AreEdged cs → EndsLow (a ++ raw_text (leading is_blank_cell cs)) × AreEdged (after_leading is_blank_cell cs)
leading-low a [] h q = (subst EndsLow (sym (append-nil a)) h, tt)
leading-low a (c ∷ cs) h q = go (is_blank_cell c) refl (λ b k. leading-low b cs k q.1)
  where
    go : (x : Bool) → is_blank_cell c ≡ x → ((b : List ℕ) → EndsLow b → EndsLow (b ++ raw_text (leading is_blank_cell cs)) × AreEdged (after_leading is_blank_cell cs)) → EndsLow (a ++ raw_text (if x then c ∷ leading is_blank_cell cs else [])) × AreEdged (if x then after_leading is_blank_cell cs else c ∷ cs)
    go true e more =
        let l = more (a ++ raw_bytes c) (low-right a (raw_bytes c) (blank_cell-low c q.0 e)) in
        (subst EndsLow (append_assoc a (raw_bytes c) (raw_text (leading is_blank_cell cs))) l.0, l.1)
    go false e more = (subst EndsLow (sym (append-nil a)) h, q)

prepend-edged : (k : ByteKind) (b : ℕ) (cs : List Cell) → IsOfKind k b → AreEdged cs → AreEdged (prepend k b cs)
prepend-edged LineFeed b cs i q = leading-low (b ∷ []) cs ([], b, refl, omega (arith, i)) q
prepend-edged CarriageReturn b [] i q = (tt, q)
prepend-edged CarriageReturn b (LfEnd r ∷ cs) i q = (low-right (b ∷ []) r q.0, q.1)
prepend-edged CarriageReturn b (Byte x ∷ cs) i q = (tt, q)
prepend-edged CarriageReturn b (Fold r ∷ cs) i q = (tt, q)
prepend-edged CarriageReturn b (CrLfEnd r ∷ cs) i q = (tt, q)
prepend-edged Backslash b [] i q = (tt, q)
prepend-edged Backslash b (LfEnd r ∷ cs) i q = (((b, r, refl, subst IsBehind (sym i) (1, omega arith, refl)), low-right (b ∷ []) r q.0), q.1)
prepend-edged Backslash b (CrLfEnd r ∷ cs) i q = (((b, r, refl, subst IsBehind (sym i) (1, omega arith, refl)), low-right (b ∷ []) r q.0), q.1)
prepend-edged Backslash b (Byte x ∷ cs) i q = (tt, q)
prepend-edged Backslash b (Fold r ∷ cs) i q = (tt, q)
prepend-edged Blank b [] i q = (tt, q)
prepend-edged Blank b (Fold r ∷ cs) i q = (((b, r, refl, blank-behind b i), low-right (b ∷ []) r q.0.1), q.1)
prepend-edged Blank b (Byte x ∷ cs) i q = (tt, q)
prepend-edged Blank b (LfEnd r ∷ cs) i q = (tt, q)
prepend-edged Blank b (CrLfEnd r ∷ cs) i q = (tt, q)
prepend-edged Ordinary b cs i q = (tt, q)

pub cells-edged : (t : List ℕ) → AreEdged (cells t)
cells-edged [] = tt
cells-edged (b ∷ t) = prepend-edged (byte_kind b) b (cells t) (kind-is b) (cells-edged t)

-- ---- blanks among units

-- a blank begins and ends so
gap-edges : (u : List Cell) → is_gap joined_byte u ≡ true → AreEdged u → BeginsBehind (raw_text u) × EndsLow (raw_text u)
gap-edges [] h q = absurd (cc)
gap-edges (Byte b ∷ []) h q = go (byte_kind b) (kind-is b) h
  where
    go : (k : ByteKind) → IsOfKind k b → is_blank_kind k ≡ true → BeginsBehind (b ∷ []) × EndsLow (b ∷ [])
    go Blank i e = ((b, [], refl, blank-behind b i), ([], b, refl, blank-low b i))
    go LineFeed i e = absurd (cc)
    go CarriageReturn i e = absurd (cc)
    go Backslash i e = absurd (cc)
    go Ordinary i e = absurd (cc)
gap-edges (Fold r ∷ []) h q = (subst BeginsBehind (sym (append-nil r)) q.0.0, subst EndsLow (sym (append-nil r)) q.0.1)
gap-edges (LfEnd r ∷ []) h q = absurd (cc)
gap-edges (CrLfEnd r ∷ []) h q = absurd (cc)
gap-edges (c ∷ d ∷ u) h q = absurd (cc)

-- a text before a word: it is empty, or its last unit is a blank
abbrev EndsInGap : List (List Cell) → Type 0
EndsInGap us = (us ≡ []) ⊎ ((f : List (List Cell)) × (u : List Cell) × (us ≡ f ++ u ∷ []) × (is_gap joined_byte u ≡ true))

gap-blank : (us : List (List Cell)) → EndsInGap us → AreEdged (concat us) → EndsBlank (raw_text (concat us))
gap-blank us (inl e) q = inl (ap (λ z. raw_text (concat z)) e)
gap-blank us (inr h) q =
    let f = h.0 in
    let u = h.1 in
    let split : concat us ≡ concat f ++ u = ap concat h.2 ∙ (concat-append f (u ∷ []) ∙ ap (λ z. concat f ++ z) (append-nil u)) in
    let edges = gap-edges u h.3 (edged-right (concat f) u (subst AreEdged split q)) in
    inr (subst EndsLow (sym (ap raw_text split ∙ raw_text-append (concat f) u)) (low-right (raw_text (concat f)) (raw_text u) edges.1))

-- ---- what follows the name of an assignment

-- the sign of an operator
abbrev is_sign : Symbol → Bool
is_sign Colon = true
is_sign Equals = true
is_sign Plus = true
is_sign Question = true
is_sign Exclamation = true
is_sign s = false

abbrev is_name_end : List Cell → Bool
is_name_end u = is_gap joined_byte u || is_sign (symbol joined_byte u)

-- an operator begins with a sign
operator-sign : (ss : List Symbol) (f : Flavor) → operator_at ss ≡ Some f → (s : Symbol) × (r : List Symbol) × (ss ≡ s ∷ r) × (is_sign s ≡ true)
operator-sign [] f h = absurd (cc)
operator-sign (Colon ∷ r) f h = (Colon, r, refl, refl)
operator-sign (Equals ∷ r) f h = (Equals, r, refl, refl)
operator-sign (Plus ∷ r) f h = (Plus, r, refl, refl)
operator-sign (Question ∷ r) f h = (Question, r, refl, refl)
operator-sign (Exclamation ∷ r) f h = (Exclamation, r, refl, refl)
operator-sign (Hash ∷ r) f h = absurd (cc)
operator-sign (Semicolon ∷ r) f h = absurd (cc)
operator-sign (Bar ∷ r) f h = absurd (cc)
operator-sign (Ampersand ∷ r) f h = absurd (cc)
operator-sign (NoSymbol ∷ r) f h = absurd (cc)

-- what stands around the name of an assignment
record HasEdges (a : Assignment Cell) : Type 0 where
  before : EndsInGap a.before
  operator : first_passes is_name_end a.operator ≡ true

all-gaps : (us : List (List Cell)) → Each (is_gap joined_byte) us → EndsInGap us
all-gaps [] h = inl refl
all-gaps (u ∷ us) h = go (all-gaps us h.1)
  where
    go : EndsInGap us → EndsInGap (u ∷ us)
    go (inl e) = inr ([], u, ap (λ z. u ∷ z) e, h.0)
    go (inr k) = inr (u ∷ k.0, k.1, ap (λ z. u ∷ z) k.2, k.3)

some-taken : (f : Flavor) (u : List Cell) (us rest : List (List Cell)) → is_name_end u ≡ true → first_passes is_name_end (take (operator_length f) (u ∷ us) ++ rest) ≡ true
some-taken flavor.Recursive u us rest h = h
some-taken flavor.Simple u us rest h = h
some-taken flavor.PosixSimple u us rest h = h
some-taken flavor.Immediate u us rest h = h
some-taken flavor.Conditional u us rest h = h
some-taken flavor.Append u us rest h = h
some-taken flavor.Shell u us rest h = h

sign-ends : (u : List Cell) → is_sign (symbol joined_byte u) ≡ true → is_name_end u ≡ true
sign-ends u h = go (is_gap joined_byte u)
  where
    go : (x : Bool) → (x || is_sign (symbol joined_byte u)) ≡ true
    go true = refl
    go false = h

-- the units of an operator, behind its blanks
operator-begins : (f : Flavor) (g r rest : List (List Cell)) → operator_at (map (symbol joined_byte) r) ≡ Some f → Each (is_gap joined_byte) g → first_passes is_name_end (g ++ (take (operator_length f) r ++ rest)) ≡ true
operator-begins f [] [] rest h e = absurd (cc)
operator-begins f [] (v ∷ r) rest h e =
    let S = operator-sign (map (symbol joined_byte) (v ∷ r)) f h in
    let first : symbol joined_byte v ≡ S.0 = cc in
    some-taken f v r rest (sign-ends v (ap is_sign first ∙ S.3))
operator-begins f (u ∷ g) r rest h e = ap (λ x. x || is_sign (symbol joined_byte u)) e.0

defined-edges : (o : Option Flavor) (b n g r : List (List Cell)) (a : Assignment Cell) → operator_at (map (symbol joined_byte) r) ≡ o → Each (is_gap joined_byte) b → Each (is_gap joined_byte) g → defined_by joined_byte o b n g r ≡ Some a → HasEdges a
defined-edges None b n g r a i x y h = absurd (cc)
defined-edges (Some f) b [] g r a i x y h = absurd (cc)
defined-edges (Some f) b (u ∷ n) g r a i x y h =
    let rest = blanks joined_byte (drop (operator_length f) r) in
    let operator : g ++ (take (operator_length f) r ++ rest) ≡ a.operator = cc in
    let before : b ≡ a.before = cc in
    record { before = subst EndsInGap before (all-gaps b x); operator = subst (λ z. first_passes is_name_end z ≡ true) operator (operator-begins f g r rest i y) }

definition-edges : (us : List (List Cell)) (a : Assignment Cell) → definition joined_byte us ≡ Some a → HasEdges a
definition-edges us a h =
    let N = after_blanks joined_byte us in
    let rest = from (ends_name joined_byte) N in
    defined-edges (operator_at (map (symbol joined_byte) (after_blanks joined_byte rest))) (blanks joined_byte us) (until (ends_name joined_byte) N) (blanks joined_byte rest) (after_blanks joined_byte rest) a refl
    (leading-each (is_gap joined_byte) us) (leading-each (is_gap joined_byte) rest) h

-- blanks stand before a name that does not come first
record TokensEdges (ts : List (Token Cell)) (a : Assignment Cell) : Type 0 where
  edges : HasEdges a
  some : is_word_first ts ≡ false → a.before ≡ [] → ⊥

led-gap : (u : List Cell) (us : List (List Cell)) → is_gap joined_byte u ≡ true → EndsInGap us → EndsInGap (u ∷ us)
led-gap u us h (inl e) = inr ([], u, ap (λ z. u ∷ z) e, h)
led-gap u us h (inr k) = inr (u ∷ k.0, k.1, ap (λ z. u ∷ z) k.2, k.3)

led-units : (w us : List (List Cell)) → (us ≡ [] → ⊥) → EndsInGap us → EndsInGap (w ++ us)
led-units w us n (inl e) = absurd (n e)
led-units w us n (inr k) = inr (w ++ k.0, k.1, ap (λ z. w ++ z) k.2 ∙ sym (append_assoc w k.0 (k.1 ∷ [])), k.3)

tokens-edges : (ts : List (Token Cell)) (a : Assignment Cell) → AreTokens joined_byte ts → assignment_of joined_byte ts ≡ Some a → TokensEdges ts a
tokens-edges [] a t h = absurd (cc)
tokens-edges (Gap u ∷ ts) a t h = go (assignment_of joined_byte ts) refl h (λ b i. tokens-edges ts b t.1 i)
  where
    go : (o : Option (Assignment Cell)) → assignment_of joined_byte ts ≡ o → after_units joined_byte (u ∷ []) o ≡ Some a → ((b : Assignment Cell) → assignment_of joined_byte ts ≡ Some b → TokensEdges ts b) → TokensEdges (Gap u ∷ ts) a
    go None i k more = absurd (cc)
    go (Some b) i k more =
        let same : record b { before = u ∷ b.before } ≡ a = cc in
        let E = (more b i).edges in
        subst (TokensEdges (Gap u ∷ ts)) same (record { edges = record { before = led-gap u b.before t.0 E.before; operator = E.operator }; some = λ f e. cc })
tokens-edges (Word w ∷ ts) a t h = go (definition joined_byte (w ++ token_units ts)) refl (modifier_of joined_byte w) (assignment_of joined_byte ts) refl h (λ b i. tokens-edges ts b t.2 i)
  where
    go : (d : Option (Assignment Cell)) → definition joined_byte (w ++ token_units ts) ≡ d → (m : Option Modifier) (o : Option (Assignment Cell)) → assignment_of joined_byte ts ≡ o
        → elim d as (λ x. Option (Assignment Cell)) [ Some b ↦ Some b | None ↦ elim m as (λ x. Option (Assignment Cell)) [ Some n ↦ after_modifier joined_byte n w o | None ↦ None ] ] ≡ Some a
        → ((b : Assignment Cell) → assignment_of joined_byte ts ≡ Some b → TokensEdges ts b) → TokensEdges (Word w ∷ ts) a
    go (Some b) i m o j k more = let same : b ≡ a = cc in record { edges = subst HasEdges same (definition-edges (w ++ token_units ts) b i); some = λ f e. cc }
    go None i None o j k more = absurd (cc)
    go None i (Some n) None j k more = absurd (cc)
    go None i (Some n) (Some b) j k more =
        let T = more b j in
        let same : record b { modifiers = n ∷ b.modifiers; before = w ++ b.before } ≡ a = cc in
        subst (TokensEdges (Word w ∷ ts)) same (record { edges = record { before = led-units w b.before (T.some t.1) T.edges.before; operator = T.edges.operator }; some = λ f e. cc })

-- ---- the text of an assignment

-- the bytes of signs
pub behind-colon : IsBehind 58
behind-colon = (6, omega arith, refl)

pub behind-ampersand : IsBehind 38
behind-ampersand = (4, omega arith, refl)

behind-equals : IsBehind 61
behind-equals = (7, omega arith, refl)

behind-plus : IsBehind 43
behind-plus = (5, omega arith, refl)

behind-question : IsBehind 63
behind-question = (8, omega arith, refl)

behind-exclamation : IsBehind 33
behind-exclamation = (3, omega arith, refl)

one-sign : (u : List Cell) (s : Symbol) (b : ℕ) → IsBehind b → (NoSymbol ≡ s → ⊥) → symbol_byte s ≡ b → (b ≡ 32 → ⊥) → (b ≡ 10 → ⊥) → symbol joined_byte u ≡ s → BeginsBehind (raw_text u)
one-sign u s b h n i x y e = let k = symbol-unit joined_byte u s n e in (b, [], ap raw_text (k.1 ∙ ap (λ z. z ∷ []) (one_byte k.0 b (k.2 ∙ i) x y)), h)

true-not_false : true ≡ false → ⊥
true-not_false e = cc

colon-sign : (u : List Cell) → symbol joined_byte u ≡ Colon → BeginsBehind (raw_text u)
colon-sign u e = one-sign u Colon 58 behind-colon (λ x. cc) refl (λ x. cc) (λ x. cc) e

equals-sign : (u : List Cell) → symbol joined_byte u ≡ Equals → BeginsBehind (raw_text u)
equals-sign u e = one-sign u Equals 61 behind-equals (λ x. cc) refl (λ x. cc) (λ x. cc) e

plus-sign : (u : List Cell) → symbol joined_byte u ≡ Plus → BeginsBehind (raw_text u)
plus-sign u e = one-sign u Plus 43 behind-plus (λ x. cc) refl (λ x. cc) (λ x. cc) e

question-sign : (u : List Cell) → symbol joined_byte u ≡ Question → BeginsBehind (raw_text u)
question-sign u e = one-sign u Question 63 behind-question (λ x. cc) refl (λ x. cc) (λ x. cc) e

exclamation-sign : (u : List Cell) → symbol joined_byte u ≡ Exclamation → BeginsBehind (raw_text u)
exclamation-sign u e = one-sign u Exclamation 33 behind-exclamation (λ x. cc) refl (λ x. cc) (λ x. cc) e

sign-behind : (u : List Cell) (s : Symbol) → symbol joined_byte u ≡ s → is_sign s ≡ true → BeginsBehind (raw_text u)
sign-behind u Colon e h = colon-sign u e
sign-behind u Equals e h = equals-sign u e
sign-behind u Plus e h = plus-sign u e
sign-behind u Question e h = question-sign u e
sign-behind u Exclamation e h = exclamation-sign u e
sign-behind u Hash e h = absurd (true-not_false (sym h))
sign-behind u Semicolon e h = absurd (true-not_false (sym h))
sign-behind u Bar e h = absurd (true-not_false (sym h))
sign-behind u Ampersand e h = absurd (true-not_false (sym h))
sign-behind u NoSymbol e h = absurd (true-not_false (sym h))

units-behind : (us : List (List Cell)) → first_passes is_name_end us ≡ true → AreEdged (concat us) → BeginsBehind (raw_text (concat us))
units-behind [] h q = absurd (cc)
units-behind (u ∷ us) h q = go (is_gap joined_byte u) refl h
  where
    more : BeginsBehind (raw_text u) → BeginsBehind (raw_text (u ++ concat us))
    more b = subst BeginsBehind (sym (raw_text-append u (concat us))) (begins-left (raw_text u) (raw_text (concat us)) b)

    go : (x : Bool) → is_gap joined_byte u ≡ x → (x || is_sign (symbol joined_byte u)) ≡ true → BeginsBehind (raw_text (u ++ concat us))
    go true e k = more (gap-edges u e (edged-left u (concat us) q)).0
    go false e k = more (sign-behind u (symbol joined_byte u) refl k)

-- the bytes before the name of an assignment, and those behind it
pub record NameEdges (a : Assignment Cell) : Type 0 where
  pub before : EndsBlank (raw_text (concat a.before))
  pub behind : BeginsBehind (raw_text (concat a.operator))

pub name-edges : (us : List (List Cell)) (a : Assignment Cell) → assignment joined_byte us ≡ Some a → AreEdged (concat a.before) → AreEdged (concat a.operator) → NameEdges a
name-edges us a h q r =
    let E = (tokens-edges (tokens joined_byte us) a (tokens-are_tokens joined_byte us) h).edges in
    record { before = gap-blank a.before E.before q; behind = units-behind a.operator E.operator r }

-- ---- a word among tokens

-- a text that ends in a blank, before one that is empty or does so
blank-right : (a b : List ℕ) → EndsLow a → EndsBlank b → EndsBlank (a ++ b)
blank-right a b h (inl e) = inr (subst EndsLow (sym (append-nil a) ∙ ap (λ z. a ++ z) (sym e)) h)
blank-right a b h (inr k) = inr (low-right a b k)

-- any text, before one that is not empty and ends in a blank
blank-some : (a b : List ℕ) → (b ≡ [] → ⊥) → EndsBlank b → EndsBlank (a ++ b)
blank-some a b n (inl e) = absurd (n e)
blank-some a b n (inr k) = inr (low-right a b k)

low-some : (a b : List ℕ) → EndsLow a → a ++ b ≡ [] → ⊥
low-some a b h e = go h.0 (sym (append_assoc h.0 (h.1 ∷ []) b) ∙ (ap (λ z. z ++ b) (sym h.2) ∙ e))
  where
    go : (f : List ℕ) → f ++ (h.1 ∷ b) ≡ [] → ⊥
    go [] k = cc
    go (x ∷ f) k = cc

-- A text cut at a word: what stands before the word is empty or ends in a blank, and what follows it is empty or begins so.
pub record IsCutAt (g text : List ℕ) (is_first : Bool) : Type 0 where
  pub front : List ℕ
  pub rest : List ℕ
  pub whole : text ≡ front ++ (g ++ rest)
  pub before : EndsBlank front
  pub behind : (rest ≡ []) ⊎ BeginsBehind rest
  pub some : is_first ≡ false → front ≡ [] → ⊥

tokens-begin : (ts : List (Token Cell)) → AreTokens joined_byte ts → is_word_first ts ≡ false → AreEdged (concat (token_units ts)) → (raw_text (concat (token_units ts)) ≡ []) ⊎ BeginsBehind (raw_text (concat (token_units ts)))
tokens-begin [] t f q = inl refl
tokens-begin (Gap u ∷ ts) t f q =
    let U = concat (token_units ts) in
    inr (subst BeginsBehind (sym (raw_text-append u U)) (begins-left (raw_text u) (raw_text U) (gap-edges u t.0 (edged-left u U q)).0))
tokens-begin (Word w ∷ ts) t f q = absurd (cc)

pub token-cut : (g : List ℕ) (ts : List (Token Cell)) → AreTokens joined_byte ts → AreEdged (concat (token_units ts)) → list_any (bytes_eq g) (map (map joined_byte) (token_words ts)) ≡ true → list_any (λ b. nat_lt b 33) g ≡ false
    → IsCutAt g (raw_text (concat (token_units ts))) (is_word_first ts)
token-cut g [] t q h plain = absurd (cc)
token-cut g (Gap u ∷ ts) t q h plain =
    let U = concat (token_units ts) in
    let E = gap-edges u t.0 (edged-left u U q) in
    let C = token-cut g ts t.1 (edged-right u U q) h plain in
    record {
      front = raw_text u ++ C.front;
      rest = C.rest;
      whole = raw_text-append u U ∙ (ap (λ z. raw_text u ++ z) C.whole ∙ sym (append_assoc (raw_text u) C.front (g ++ C.rest)));
      before = blank-right (raw_text u) C.front E.1 C.before;
      behind = C.behind;
      some = λ f e. low-some (raw_text u) C.front E.1 e;
    }
token-cut g (Word w ∷ ts) t q h plain = go (bytes_eq g (map joined_byte (concat w))) refl h (λ e k. token-cut g ts t.2 e k plain)
  where
    whole : raw_text (concat (w ++ token_units ts)) ≡ raw_text (concat w) ++ raw_text (concat (token_units ts))
    whole = raw-units w (token_units ts)

    edged : AreEdged (concat (token_units ts))
    edged = edged-right (concat w) (concat (token_units ts)) (subst AreEdged (concat-append w (token_units ts)) q)

    go : (b : Bool) → bytes_eq g (map joined_byte (concat w)) ≡ b → (b || list_any (bytes_eq g) (map (map joined_byte) (token_words ts))) ≡ true
        → (AreEdged (concat (token_units ts)) → list_any (bytes_eq g) (map (map joined_byte) (token_words ts)) ≡ true → IsCutAt g (raw_text (concat (token_units ts))) (is_word_first ts))
        → IsCutAt g (raw_text (concat (w ++ token_units ts))) true
    go true e k more =
        let same : raw_text (concat w) ≡ g = solid-word (concat w) g (sym ((bytes_eq-Decides g (map joined_byte (concat w))).0 e)) plain in
        record {
          front = [];
          rest = raw_text (concat (token_units ts));
          whole = whole ∙ ap (λ z. z ++ raw_text (concat (token_units ts))) same;
          before = inl refl;
          behind = tokens-begin ts t.2 t.1 edged;
          some = λ f e. cc;
        }
    go false e k more =
        let C = more edged k in
        record {
          front = raw_text (concat w) ++ C.front;
          rest = C.rest;
          whole = whole ∙ (ap (λ z. raw_text (concat w) ++ z) C.whole ∙ sym (append_assoc (raw_text (concat w)) C.front (g ++ C.rest)));
          before = blank-some (raw_text (concat w)) C.front (C.some t.1) C.before;
          behind = C.behind;
          some = λ f e. cc;
        }
