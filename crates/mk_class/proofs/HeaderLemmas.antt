-- Lemmas of the readers of headers.
use Rattle.std.proofs.Common.{◌≡◌, refl, sym, ap, ◌∙◌, ℕ, List, [], ◌∷◌, Bool, true, false, not, ◌||◌, subst, length, take, drop, get_or, ◌-◌, ◌≤◌, ◌==◌, cond, eq-eqb, Bor}
use Rattle.std.specs.List.{list_any}
use Rattle.std.specs.Prelude.{MatchOption, Option}
use Rattle.std.proofs.lemmas.Bool.{eqb-true}
use Rattle.std.proofs.Math.Bool.{not-not, or-false}
use Rattle.mk_lines.specs.Lists.{leading}
use Rattle.mk_lines.specs.Units.Mark.{Dollar, Escape, OpenParen, CloseParen, OpenBrace, CloseBrace, Unmarked}
use Rattle.mk_class.specs.ListTests.{first_passes}
use Rattle.mk_class.specs.Symbols.{Symbol, byte_symbol, is_hash, is_colon, is_bar, is_equals_symbol, is_hash_symbol, is_colon_symbol, is_semicolon_symbol, is_bar_symbol, is_equals, is_escape, is_dollar_before_blank}
use Rattle.mk_class.specs.Symbols.Symbol.{Hash, Colon, Semicolon, Equals, Plus, Question, Exclamation, Bar, Ampersand, NoSymbol}
use Rattle.mk_class.proofs.on_symbols.SymbolLemmas.{symbol_byte, byte_symbol-byte, equals_symbol-is, hash_symbol-is, colon_symbol-is, semicolon_symbol-is, bar_symbol-is}
use Rattle.mk_class.specs.CutTexts.{is_head_end_symbol, is_in_head}
use Rattle.mk_class.specs.Separators.{begins_separator}
use Rattle.mk_class.specs.Scans.{IsSeparatorAt, is_one_byte_of, is_other}
use Rattle.mk_class.specs.declared.rule.Separator.{Separator}
use Rattle.mk_class.proofs.AssignmentLemmas.{units-at}
use Rattle.mk_lines.specs.Bytes.{ByteKind, byte_kind, is_backslash_kind}
use Rattle.mk_lines.specs.Bytes.ByteKind.{LineFeed, CarriageReturn, Backslash, Blank, Ordinary}
use Rattle.mk_lines.proofs.on_lists.ByteLemmas.{backslash-byte}
use Rattle.mk_lines.specs.Units.{units, is_closed, byte_mark}
use Rattle.mk_lines.specs.FirstUnit.{is_unclosed_unit, is_lone_backslash, is_backslash_mark, leaves_open}
use Rattle.mk_lines.proofs.on_units.FirstUnitLemmas.{is_closed-leaves_open}
use Rattle.mk_class.specs.Headers.{has_unreadable}
use Rattle.mk_class.specs.TextClasses.{itself}

-- whether a unit is a `=`, begins with a backslash, or is a dollar before a blank or a backslash
abbrev pub is_bad_unit : List ℕ → Bool
is_bad_unit u = is_equals itself u || (is_escape itself u || is_dollar_before_blank itself u)

-- an unclosed unit besides
escape_test : (a b c d l : Bool) → (l ≡ true → b ≡ true) → ((a || (b || (c || d))) || false) ≡ (((a || (b || c)) || false) || (d || l))
escape_test true b c d l h = refl
escape_test false true c d l h = refl
escape_test false false true d l h = refl
escape_test false false false true l h = refl
escape_test false false false false true h = h refl
escape_test false false false false false h = refl

more_tests : (a b c d x y : Bool) → ((a || (b || (c || d))) || (x || y)) ≡ (((a || (b || c)) || x) || (d || y))
more_tests true b c d x y = refl
more_tests false true c d x y = refl
more_tests false false true d x y = refl
more_tests false false false true true y = refl
more_tests false false false true false y = refl
more_tests false false false false true y = refl
more_tests false false false false false y = refl

pub escape-byte : (x : ℕ) (k : ByteKind) → byte_kind x ≡ k → is_backslash_kind k ≡ true → x ≡ 92
escape-byte x LineFeed e h = cc
escape-byte x CarriageReturn e h = cc
escape-byte x Backslash e h = backslash-byte x e
escape-byte x Blank e h = cc
escape-byte x Ordinary e h = cc

-- a byte that escapes is a backslash
escape_mark : (x : ℕ) → is_backslash_mark itself (byte_mark x) ≡ true → is_backslash_kind (byte_kind x) ≡ true
escape_mark x h = go (x == 92) refl
  where
    other : (a b c d e : Bool) → is_backslash_mark itself (cond a Dollar (cond b OpenParen (cond c CloseParen (cond d OpenBrace (cond e CloseBrace Unmarked))))) ≡ false
    other true b c d e = refl
    other false true c d e = refl
    other false false true d e = refl
    other false false false true e = refl
    other false false false false true = refl
    other false false false false false = refl

    go : (c : Bool) → (x == 92) ≡ c → is_backslash_kind (byte_kind x) ≡ true
    go true e = ap (λ z. is_backslash_kind (byte_kind z)) (eqb-true x 92 e)
    go false e =
        absurd (let n : is_backslash_mark itself (byte_mark x) ≡ false =
        ap (λ z. is_backslash_mark itself (cond (x == 36) Dollar (cond z Escape (cond (x == 40) OpenParen (cond (x == 41) CloseParen (cond (x == 123) OpenBrace (cond (x == 125) CloseBrace Unmarked))))))) e
        ∙ other (x == 36) (x == 40) (x == 41) (x == 123) (x == 125) in cc)

-- a lone backslash begins with a backslash
lone_backslash : (u : List ℕ) → is_lone_backslash itself u ≡ true → is_escape itself u ≡ true
lone_backslash [] h = cc
lone_backslash (x ∷ []) h = escape_mark x h
lone_backslash (x ∷ y ∷ u) h = cc

-- a unit may stand in no word where it is bad or leaves the text open
unreadable-open : (us : List (List ℕ)) → has_unreadable itself us ≡ (list_any is_bad_unit us || leaves_open itself us)
unreadable-open [] = refl
unreadable-open (u ∷ []) = escape_test (is_equals itself u) (is_escape itself u) (is_dollar_before_blank itself u) (is_unclosed_unit itself u) (is_lone_backslash itself u) (lone_backslash u)
unreadable-open (u ∷ v ∷ us) =
    ap (λ z. (is_equals itself u || (is_escape itself u || (is_dollar_before_blank itself u || is_unclosed_unit itself u))) || z) (unreadable-open (v ∷ us))
    ∙ more_tests (is_equals itself u) (is_escape itself u) (is_dollar_before_blank itself u) (is_unclosed_unit itself u) (list_any is_bad_unit (v ∷ us)) (leaves_open itself (v ∷ us))

-- a text that is bad, and one that is not
pub unreadable-bad : (t : List ℕ) → list_any is_bad_unit (units itself t) ≡ true → true ≡ has_unreadable itself (units itself t)
unreadable-bad t h = sym (unreadable-open (units itself t) ∙ ap (λ z. z || leaves_open itself (units itself t)) h)

pub unreadable-closed : (t : List ℕ) → list_any is_bad_unit (units itself t) ≡ false → not (is_closed itself t) ≡ has_unreadable itself (units itself t)
unreadable-closed t h =
    ap not (is_closed-leaves_open itself t)
    ∙ (not-not (leaves_open itself (units itself t))
    ∙ sym (unreadable-open (units itself t) ∙ ap (λ z. z || leaves_open itself (units itself t)) h))

-- ---- separators

-- the separator that a `&` and what follows it make
pub grouped_separator : (s : List ℕ) (r : Option (Separator × Bor (List ℕ))) → 1 ≤ length s → get_or s 0 0 ≡ 38
    → MatchOption r (first_passes (is_colon itself) (units itself (take (length s - 1) (drop 1 s))) ≡ false) (λ found. IsSeparatorAt ((38 ∷ []) ∷ units itself (take (length s - 1) (drop 1 s))) found.0 (units itself found.1.now))
    → MatchOption r (begins_separator itself (units itself s) ≡ false) (λ found. IsSeparatorAt (units itself s) found.0 (units itself found.1.now))
grouped_separator s r h e k =
    subst (λ (z : List (List ℕ)). MatchOption r (begins_separator itself z ≡ false) (λ found. IsSeparatorAt z found.0 (units itself found.1.now)))
    (sym (units-at s 38 refl h e)) k

-- ---- symbols and their bytes

head_end-symbol : (s : Symbol) → (is_semicolon_symbol s || (is_hash_symbol s || false)) ≡ is_head_end_symbol s
head_end-symbol Hash = refl
head_end-symbol Colon = refl
head_end-symbol Semicolon = refl
head_end-symbol Equals = refl
head_end-symbol Plus = refl
head_end-symbol Question = refl
head_end-symbol Exclamation = refl
head_end-symbol Bar = refl
head_end-symbol Ampersand = refl
head_end-symbol NoSymbol = refl

-- a byte has the symbol where it is its byte
byte-test : (n : ℕ) (s : Symbol) (p : Symbol → Bool) → byte_symbol n ≡ s → symbol_byte s ≡ n → (NoSymbol ≡ s → ⊥) → p s ≡ true → ((k : Symbol) → p k ≡ true → k ≡ s) → (x : ℕ) → (n == x) ≡ p (byte_symbol x)
byte-test n s p h k m t i x = go (n == x) refl (p (byte_symbol x)) refl
  where
    go : (c : Bool) → (n == x) ≡ c → (d : Bool) → p (byte_symbol x) ≡ d → c ≡ d
    go true e true f = refl
    go true e false f = absurd (let q : p (byte_symbol x) ≡ true = ap (λ z. p (byte_symbol z)) (sym (eqb-true n x e)) ∙ (ap p h ∙ t) in cc)
    go false e true f = absurd (let q : (n == x) ≡ true = eq-eqb n x (sym (byte_symbol-byte x s m (i (byte_symbol x) f) ∙ k)) in cc)
    go false e false f = refl

colon-test : (x : ℕ) → (58 == x) ≡ is_colon_symbol (byte_symbol x)
colon-test x = byte-test 58 Colon is_colon_symbol refl refl (λ e. cc) refl colon_symbol-is x

bar-test : (x : ℕ) → (124 == x) ≡ is_bar_symbol (byte_symbol x)
bar-test x = byte-test 124 Bar is_bar_symbol refl refl (λ e. cc) refl bar_symbol-is x

hash-test : (x : ℕ) → (35 == x) ≡ is_hash_symbol (byte_symbol x)
hash-test x = byte-test 35 Hash is_hash_symbol refl refl (λ e. cc) refl hash_symbol-is x

semicolon-test : (x : ℕ) → (59 == x) ≡ is_semicolon_symbol (byte_symbol x)
semicolon-test x = byte-test 59 Semicolon is_semicolon_symbol refl refl (λ e. cc) refl semicolon_symbol-is x

pub equals-test : (x : ℕ) → (61 == x) ≡ is_equals_symbol (byte_symbol x)
equals-test x = byte-test 61 Equals is_equals_symbol refl refl (λ e. cc) refl equals_symbol-is x

-- the units that are this byte
pub is_colon-byte : (u : List ℕ) → is_one_byte_of (58 ∷ []) u ≡ is_colon itself u
is_colon-byte [] = refl
is_colon-byte (x ∷ []) = or-false (58 == x) ∙ colon-test x
is_colon-byte (x ∷ y ∷ u) = refl

pub is_bar-byte : (u : List ℕ) → is_one_byte_of (124 ∷ []) u ≡ is_bar itself u
is_bar-byte [] = refl
is_bar-byte (x ∷ []) = or-false (124 == x) ∙ bar-test x
is_bar-byte (x ∷ y ∷ u) = refl

pub is_hash-byte : (u : List ℕ) → is_one_byte_of (35 ∷ []) u ≡ is_hash itself u
is_hash-byte [] = refl
is_hash-byte (x ∷ []) = or-false (35 == x) ∙ hash-test x
is_hash-byte (x ∷ y ∷ u) = refl

pub is_in_head-byte : (u : List ℕ) → is_other (59 ∷ 35 ∷ []) u ≡ is_in_head itself u
is_in_head-byte [] = refl
is_in_head-byte (x ∷ []) = ap not (ap (λ z. z || ((35 == x) || false)) (semicolon-test x) ∙ (ap (λ z. is_semicolon_symbol (byte_symbol x) || (z || false)) (hash-test x) ∙ head_end-symbol (byte_symbol x)))
is_in_head-byte (x ∷ y ∷ u) = refl

pub any-same : {A : Type 0} (p q : A → Bool) → ((u : A) → p u ≡ q u) → (us : List A) → list_any p us ≡ list_any q us
any-same p q h [] = refl
any-same p q h (u ∷ us) = rw (h u, any-same p q h us) refl

pub leading-same : (p q : List ℕ → Bool) → ((u : List ℕ) → p u ≡ q u) → (us : List (List ℕ)) → leading p us ≡ leading q us
leading-same p q h [] = refl
leading-same p q h (u ∷ us) = rw (h u, leading-same p q h us) refl

-- a `#` is no first unit but `#`
pub first-hash : (s : List ℕ) → 1 ≤ length s → get_or s 0 0 ≡ 35 → false ≡ first_passes (λ u. not (is_hash itself u)) (units itself s)
first-hash s h e = sym (ap (first_passes (λ u. not (is_hash itself u))) (units-at s 35 refl h e))
