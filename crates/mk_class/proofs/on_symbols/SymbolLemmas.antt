-- Which bytes are which symbols, and which units are gaps.
use Rattle.std.proofs.Common.{◌≡◌, refl, sym, ap, ◌∙◌, ℕ, List, [], ◌∷◌, Bool, true, false, ◌==◌, cond}
use Rattle.std.specs.Prelude.{◌⊎◌}
use Rattle.std.proofs.lemmas.Bool.{eqb-true}
use mathlib.Core.Logic.{inl, inr}
use Rattle.mk_lines.specs.Bytes.{ByteKind, byte_kind, is_blank_kind}
use Rattle.mk_lines.specs.Bytes.ByteKind.{LineFeed, CarriageReturn, Backslash, Blank, Ordinary}
use Rattle.mk_lines.proofs.on_lists.ByteLemmas.{blank-byte, blank-mark}
use Rattle.mk_lines.specs.Words.{is_gap}
use Rattle.mk_lines.proofs.on_units.UnitLemmas.{IsPlainUnit}
use Rattle.mk_class.specs.Symbols.{Symbol, byte_symbol, symbol, is_equals, is_equals_symbol, is_hash_symbol, is_colon_symbol, is_semicolon_symbol, is_bar_symbol}
use Rattle.mk_class.specs.Symbols.Symbol.{Hash, Colon, Semicolon, Equals, Plus, Question, Exclamation, Bar, Ampersand, NoSymbol}

-- the byte of a symbol
abbrev pub symbol_byte : Symbol → ℕ
symbol_byte Hash = 35
symbol_byte Colon = 58
symbol_byte Semicolon = 59
symbol_byte Equals = 61
symbol_byte Plus = 43
symbol_byte Question = 63
symbol_byte Exclamation = 33
symbol_byte Bar = 124
symbol_byte Ampersand = 38
symbol_byte NoSymbol = 0

-- a symbol of a chain of tests is that of the test that passes
chosen : (b n : ℕ) (c : Bool) (t rest s : Symbol) → (c ≡ true → b ≡ n) → symbol_byte t ≡ n → (rest ≡ s → b ≡ symbol_byte s) → cond c t rest ≡ s → b ≡ symbol_byte s
chosen b n true t rest s e f g h = e refl ∙ (sym f ∙ ap symbol_byte h)
chosen b n false t rest s e f g h = g h

-- the byte of a symbol is its own
pub byte_symbol-byte : (b : ℕ) (s : Symbol) → (NoSymbol ≡ s → ⊥) → byte_symbol b ≡ s → b ≡ symbol_byte s
byte_symbol-byte b s n =
    chosen b 35 (b == 35) Hash _ s (eqb-true b 35) refl (
    chosen b 58 (b == 58) Colon _ s (eqb-true b 58) refl (
    chosen b 59 (b == 59) Semicolon _ s (eqb-true b 59) refl (
    chosen b 61 (b == 61) Equals _ s (eqb-true b 61) refl (
    chosen b 43 (b == 43) Plus _ s (eqb-true b 43) refl (
    chosen b 63 (b == 63) Question _ s (eqb-true b 63) refl (
    chosen b 33 (b == 33) Exclamation _ s (eqb-true b 33) refl (
    chosen b 124 (b == 124) Bar _ s (eqb-true b 124) refl (
    chosen b 38 (b == 38) Ampersand _ s (eqb-true b 38) refl (
    λ h. absurd (n h))))))))))

-- a blank is no symbol
blank-no_symbol : (b : ℕ) → is_blank_kind (byte_kind b) ≡ true → byte_symbol b ≡ NoSymbol
blank-no_symbol b h = go (byte_kind b) refl h
  where
    of : (b ≡ 32) ⊎ (b ≡ 9) → byte_symbol b ≡ NoSymbol
    of (inl e) = rw e refl
    of (inr e) = rw e refl

    go : (k : ByteKind) → byte_kind b ≡ k → is_blank_kind k ≡ true → byte_symbol b ≡ NoSymbol
    go LineFeed e h = cc
    go CarriageReturn e h = cc
    go Backslash e h = cc
    go Blank e h = of (blank-byte b e)
    go Ordinary e h = cc

-- a blank means nothing to units
pub blank-unmarked : (b : ℕ) → is_blank_kind (byte_kind b) ≡ true → Rattle.mk_lines.specs.Units.byte_mark b ≡ Rattle.mk_lines.specs.Units.Mark.Unmarked
blank-unmarked b h = go (byte_kind b) refl h
  where
    go : (k : ByteKind) → byte_kind b ≡ k → is_blank_kind k ≡ true → Rattle.mk_lines.specs.Units.byte_mark b ≡ Rattle.mk_lines.specs.Units.Mark.Unmarked
    go LineFeed e h = cc
    go CarriageReturn e h = cc
    go Backslash e h = cc
    go Blank e h = blank-mark b e
    go Ordinary e h = cc

-- what the tests of symbols say
pub equals_symbol-is : (s : Symbol) → is_equals_symbol s ≡ true → s ≡ Equals
equals_symbol-is Hash h = cc
equals_symbol-is Colon h = cc
equals_symbol-is Semicolon h = cc
equals_symbol-is Equals h = refl
equals_symbol-is Plus h = cc
equals_symbol-is Question h = cc
equals_symbol-is Exclamation h = cc
equals_symbol-is Bar h = cc
equals_symbol-is Ampersand h = cc
equals_symbol-is NoSymbol h = cc

pub bar_symbol-is : (s : Symbol) → is_bar_symbol s ≡ true → s ≡ Bar
bar_symbol-is Hash h = cc
bar_symbol-is Colon h = cc
bar_symbol-is Semicolon h = cc
bar_symbol-is Equals h = cc
bar_symbol-is Plus h = cc
bar_symbol-is Question h = cc
bar_symbol-is Exclamation h = cc
bar_symbol-is Bar h = refl
bar_symbol-is Ampersand h = cc
bar_symbol-is NoSymbol h = cc

pub semicolon_symbol-is : (s : Symbol) → is_semicolon_symbol s ≡ true → s ≡ Semicolon
semicolon_symbol-is Hash h = cc
semicolon_symbol-is Colon h = cc
semicolon_symbol-is Semicolon h = refl
semicolon_symbol-is Equals h = cc
semicolon_symbol-is Plus h = cc
semicolon_symbol-is Question h = cc
semicolon_symbol-is Exclamation h = cc
semicolon_symbol-is Bar h = cc
semicolon_symbol-is Ampersand h = cc
semicolon_symbol-is NoSymbol h = cc

pub colon_symbol-is : (s : Symbol) → is_colon_symbol s ≡ true → s ≡ Colon
colon_symbol-is Hash h = cc
colon_symbol-is Colon h = refl
colon_symbol-is Semicolon h = cc
colon_symbol-is Equals h = cc
colon_symbol-is Plus h = cc
colon_symbol-is Question h = cc
colon_symbol-is Exclamation h = cc
colon_symbol-is Bar h = cc
colon_symbol-is Ampersand h = cc
colon_symbol-is NoSymbol h = cc

pub hash_symbol-is : (s : Symbol) → is_hash_symbol s ≡ true → s ≡ Hash
hash_symbol-is Hash h = refl
hash_symbol-is Colon h = cc
hash_symbol-is Semicolon h = cc
hash_symbol-is Equals h = cc
hash_symbol-is Plus h = cc
hash_symbol-is Question h = cc
hash_symbol-is Exclamation h = cc
hash_symbol-is Bar h = cc
hash_symbol-is Ampersand h = cc
hash_symbol-is NoSymbol h = cc

module _ {A : Type 0} (byte : A → ℕ) where
  -- a gap is no symbol
  pub gap-no_symbol : (u : List A) → is_gap byte u ≡ true → symbol byte u ≡ NoSymbol
  gap-no_symbol [] h = cc
  gap-no_symbol (x ∷ []) h = blank-no_symbol (byte x) h
  gap-no_symbol (x ∷ y ∷ u) h = cc

  -- a gap means nothing to units
  pub gap-plain : (u : List A) → is_gap byte u ≡ true → IsPlainUnit byte u
  gap-plain [] h = cc
  gap-plain (x ∷ []) h = blank-unmarked (byte x) h
  gap-plain (x ∷ y ∷ u) h = cc

  -- a symbol is no gap
  pub symbol-no_gap : (u : List A) → (symbol byte u ≡ NoSymbol → ⊥) → is_gap byte u ≡ false
  symbol-no_gap u n = go (is_gap byte u) refl
    where
      go : (g : Bool) → is_gap byte u ≡ g → g ≡ false
      go true e = absurd (n (gap-no_symbol u e))
      go false e = refl

  -- the unit of a symbol is one byte
  pub symbol-unit : (u : List A) (s : Symbol) → (NoSymbol ≡ s → ⊥) → symbol byte u ≡ s → (x : A) × (u ≡ x ∷ []) × (byte x ≡ symbol_byte s)
  symbol-unit [] s n h = absurd (n h)
  symbol-unit (x ∷ []) s n h = (x, refl, byte_symbol-byte (byte x) s n h)
  symbol-unit (x ∷ y ∷ u) s n h = absurd (n h)

  -- a unit `=` has this symbol
  pub equals-symbol : (u : List A) → is_equals byte u ≡ true → symbol byte u ≡ Equals
  equals-symbol u h = equals_symbol-is (symbol byte u) h

  -- a unit `=` is no gap
  pub equals-no_gap : (u : List A) → is_equals byte u ≡ true → is_gap byte u ≡ false
  equals-no_gap u h = symbol-no_gap u (λ e. let k : NoSymbol ≡ Equals = sym e ∙ equals-symbol u h in cc)

  -- a unit `=` is one byte, which means nothing to units
  pub equals-plain : (u : List A) → is_equals byte u ≡ true → IsPlainUnit byte u
  equals-plain [] h = cc
  equals-plain (x ∷ []) h = rw (byte_symbol-byte (byte x) Equals (λ e. cc) (equals-symbol (x ∷ []) h)) refl
  equals-plain (x ∷ y ∷ u) h = cc
