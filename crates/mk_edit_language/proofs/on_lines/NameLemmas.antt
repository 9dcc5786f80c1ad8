-- Bytes of names, and texts of bytes that are units by themselves.
use Rattle.std.proofs.Common.{◌≡◌, refl, ap, ◌∙◌, arith, ℕ, List, [], ◌∷◌, ◌++◌, map, Bool, true, false, not, ◌&&◌, ◌||◌, ◌==◌, ◌<◌}
use Rattle.std.specs.List.{list_any}
use Rattle.std.proofs.lemmas.Bool.{and_parts, not-true, agree_below_at, eqb-true, leb-true}
use Rattle.std.specs.Prelude.{nat_le}
use Rattle.mk_lines.specs.Bytes.{ByteKind, byte_kind}
use Rattle.mk_lines.specs.Bytes.ByteKind.{LineFeed, CarriageReturn, Backslash, Blank, Ordinary}
use Rattle.mk_lines.specs.Cells.{Cell, Byte, joined_byte}
use Rattle.mk_lines.proofs.on_cells.CellsReplaced.{is_ordinary_kind}
use Rattle.mk_lines.specs.Units.{Mark, byte_mark, units, is_closed}
use Rattle.mk_lines.specs.Units.Mark.{Dollar, Escape, OpenParen, CloseParen, OpenBrace, CloseBrace, Unmarked}
use Rattle.mk_lines.proofs.on_units.UnitLemmas.{units-append, is_closed-append}
use Rattle.mk_class.specs.Texts.{unit_text}
use Rattle.mk_class.specs.Symbols.{Symbol, byte_symbol}
use Rattle.mk_class.specs.Symbols.Symbol.{Hash, Colon, Semicolon, Equals, Plus, Question, Exclamation, Bar, Ampersand, NoSymbol}
use Rattle.mk_class.specs.Arguments.{is_name, is_name_byte, is_within, is_barred_byte}

-- ---- bytes of names

abbrev is_unmarked : Mark → Bool
is_unmarked Unmarked = true
is_unmarked m = false

abbrev is_no_symbol : Symbol → Bool
is_no_symbol NoSymbol = true
is_no_symbol s = false

-- a byte of a name is nothing to lines, units and symbols
abbrev name_byte_is : ℕ → Bool
name_byte_is b = not (is_name_byte b) || (is_ordinary_kind (byte_kind b) && (is_unmarked (byte_mark b) && (is_no_symbol (byte_symbol b) && not (b == 0))))

table : (b : ℕ) → b < 128 → name_byte_is b ≡ true
table b h = agree_below_at name_byte_is (λ x. true) 128 b refl h

within-below : (low high b : ℕ) → is_within low high b ≡ true → high < 128 → b < 128
within-below low high b h k = let p = and_parts (nat_le low b) (nat_le b high) h in omega (arith, leb-true b high p.1)

or-then : {A : Type 0} (x y : Bool) → (x || y) ≡ true → (x ≡ true → A) → (y ≡ true → A) → A
or-then true y h f g = f refl
or-then false y h f g = g h

name-below : (b : ℕ) → is_name_byte b ≡ true → b < 128
name-below b h =
    or-then (is_within 48 57 b) _ h (λ k. within-below 48 57 b k (omega arith)) (λ h1.
    or-then (is_within 65 90 b) _ h1 (λ k. within-below 65 90 b k (omega arith)) (λ h2.
    or-then (is_within 97 122 b) _ h2 (λ k. within-below 97 122 b k (omega arith)) (λ h3.
    or-then (b == 95) _ h3 (λ k. omega (arith, eqb-true b 95 k)) (λ h4.
    or-then (b == 46) _ h4 (λ k. omega (arith, eqb-true b 46 k)) (λ h5. omega (arith, eqb-true b 45 h5))))))

name-byte : (b : ℕ) → is_name_byte b ≡ true → (is_ordinary_kind (byte_kind b) && (is_unmarked (byte_mark b) && (is_no_symbol (byte_symbol b) && not (b == 0)))) ≡ true
name-byte b h =
    let t : (not (is_name_byte b) || (is_ordinary_kind (byte_kind b) && (is_unmarked (byte_mark b) && (is_no_symbol (byte_symbol b) && not (b == 0))))) ≡ true = table b (name-below b h) in
    rw h at t

kind-ordinary : (k : ByteKind) → is_ordinary_kind k ≡ true → k ≡ Ordinary
kind-ordinary Ordinary h = refl
kind-ordinary LineFeed h = cc
kind-ordinary CarriageReturn h = cc
kind-ordinary Backslash h = cc
kind-ordinary Blank h = cc

mark-unmarked : (m : Mark) → is_unmarked m ≡ true → m ≡ Unmarked
mark-unmarked Unmarked h = refl
mark-unmarked Dollar h = cc
mark-unmarked Escape h = cc
mark-unmarked OpenParen h = cc
mark-unmarked CloseParen h = cc
mark-unmarked OpenBrace h = cc
mark-unmarked CloseBrace h = cc

symbol-none : (s : Symbol) → is_no_symbol s ≡ true → s ≡ NoSymbol
symbol-none NoSymbol h = refl
symbol-none Hash h = cc
symbol-none Colon h = cc
symbol-none Semicolon h = cc
symbol-none Equals h = cc
symbol-none Plus h = cc
symbol-none Question h = cc
symbol-none Exclamation h = cc
symbol-none Bar h = cc
symbol-none Ampersand h = cc

-- the bytes of a name, as facts
abbrev pub AreNameBytes : List ℕ → Type 0
AreNameBytes [] = Unit {0}
AreNameBytes (b ∷ n) = (byte_kind b ≡ Ordinary) × (byte_mark b ≡ Unmarked) × (byte_symbol b ≡ NoSymbol) × ((b == 0) ≡ false) × AreNameBytes n

name-bytes : (n : List ℕ) → list_any (λ b. not (is_name_byte b)) n ≡ false → AreNameBytes n
name-bytes [] h = tt
name-bytes (b ∷ n) h = go (is_name_byte b) refl h (λ k. name-bytes n k)
  where
    go : (x : Bool) → is_name_byte b ≡ x → (not x || list_any (λ b. not (is_name_byte b)) n) ≡ false → (list_any (λ b. not (is_name_byte b)) n ≡ false → AreNameBytes n) → AreNameBytes (b ∷ n)
    go false e h k = absurd (cc)
    go true e h k =
        let r = and_parts (is_ordinary_kind (byte_kind b)) _ (name-byte b e) in
        let s = and_parts (is_unmarked (byte_mark b)) _ r.1 in
        let u = and_parts (is_no_symbol (byte_symbol b)) (not (b == 0)) s.1 in
        (kind-ordinary (byte_kind b) r.0, mark-unmarked (byte_mark b) s.0, symbol-none (byte_symbol b) u.0, not-true (b == 0) u.1, k h)

-- the bytes of a text that may be a name
pub name-bytes_are : (b : ℕ) (n : List ℕ) → is_name (b ∷ n) ≡ true → AreNameBytes (b ∷ n)
name-bytes_are b n h = name-bytes (b ∷ n) (not-true (list_any (λ b. not (is_name_byte b)) (b ∷ n)) h)

-- none of the bytes of a name is barred
pub name-clean : (n : List ℕ) → AreNameBytes n → list_any is_barred_byte n ≡ false
name-clean [] h = refl
name-clean (b ∷ n) h = rw (h.0, h.3, name-clean n h.4) refl

-- ---- texts of bytes that are units by themselves

-- a text of unmarked bytes
abbrev pub AreUnmarked : List ℕ → Type 0
AreUnmarked [] = Unit {0}
AreUnmarked (b ∷ s) = (byte_mark b ≡ Unmarked) × AreUnmarked s

pub name-unmarked : (n : List ℕ) → AreNameBytes n → AreUnmarked n
name-unmarked [] h = tt
name-unmarked (b ∷ n) h = (h.1, name-unmarked n h.4)

pub unmarked-append : (a b : List ℕ) → AreUnmarked a → AreUnmarked b → AreUnmarked (a ++ b)
unmarked-append [] b h k = k
unmarked-append (x ∷ a) b h k = (h.0, unmarked-append a b h.1 k)

-- each byte as a unit
abbrev pub singles : List ℕ → List (List Cell)
singles [] = []
singles (b ∷ s) = (Byte b ∷ []) ∷ singles s

pub singles-append : (a b : List ℕ) → singles (a ++ b) ≡ singles a ++ singles b
singles-append [] b = refl
singles-append (x ∷ a) b = ap (λ z. (Byte x ∷ []) ∷ z) (singles-append a b)

pub unit_text-singles : (s : List ℕ) → unit_text joined_byte (singles s) ≡ s
unit_text-singles [] = refl
unit_text-singles (b ∷ s) = ap (λ z. b ∷ z) (unit_text-singles s)

single-closed : (b : ℕ) → byte_mark b ≡ Unmarked → is_closed joined_byte (Byte b ∷ []) ≡ true
single-closed b h = rw h refl

-- a text without marks is closed, and its units are its bytes
pub unmarked-closed : (s : List ℕ) → AreUnmarked s → is_closed joined_byte (map Byte s) ≡ true
unmarked-closed [] h = refl
unmarked-closed (b ∷ s) h = is_closed-append joined_byte (Byte b ∷ []) (map Byte s) (single-closed b h.0) ∙ unmarked-closed s h.1

pub unmarked-units : (s : List ℕ) → AreUnmarked s → units joined_byte (map Byte s) ≡ singles s
unmarked-units [] h = refl
unmarked-units (b ∷ s) h =
    units-append joined_byte (Byte b ∷ []) (map Byte s) (single-closed b h.0) ∙ ap (λ z. (Byte b ∷ []) ∷ z) (unmarked-units s h.1)
