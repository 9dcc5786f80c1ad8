-- The units of a rule line's head that can be read. Each is closed and read again by itself. A unit that is no gap begins and
-- ends in a byte that joins whatever stands beside it. So such units can be put together in any order.
use Rattle.std.proofs.Common.{◌≡◌, refl, sym, ap, ◌∙◌, subst, ℕ, zero, suc, List, [], ◌∷◌, ◌++◌, Bool, true, false, not, ◌||◌, ◌==◌, cond, append_assoc}
use Rattle.std.specs.List.{list_any}
use Rattle.std.proofs.lemmas.List.{append-nil}
use Rattle.std.proofs.lemmas.Bool.{or_parts, eqb-true}
use Rattle.mk_lines.specs.Lists.{concat, Each}
use Rattle.mk_lines.specs.Bytes.{ByteKind, byte_kind, is_blank_kind, is_backslash_kind}
use Rattle.mk_lines.specs.Bytes.ByteKind.{LineFeed, CarriageReturn, Backslash, Blank, Ordinary}
use Rattle.mk_lines.specs.Cells.{Cell, Byte, Fold, LfEnd, CrLfEnd, joined_byte}
use Rattle.mk_lines.specs.CellFaults.{has_stray, is_stray_by}
use Rattle.mk_lines.proofs.on_cells.LineCells.{AreLineCells, AreLineCells-append, Joins, Joins-solid, Joins-ordinary}
use Rattle.mk_lines.specs.Cut.{state_after, continuation}
use Rattle.mk_lines.specs.Units.{Mark, byte_mark, next_unit_state, units, is_closed, unit_step, unit_begins}
use Rattle.mk_lines.specs.Units.Mark.{Dollar, Escape, OpenParen, CloseParen, OpenBrace, CloseBrace, Unmarked}
use Rattle.mk_lines.specs.Units.UnitState.{Between, AfterDollar, InParens, InBraces}
use Rattle.mk_lines.proofs.on_units.UnitLemmas.{units-first, units-last, units-append, is_closed-between}
use Rattle.mk_lines.specs.FirstUnit.{is_unclosed_unit, is_lone_backslash, is_backslash_mark, leaves_open}
use Rattle.mk_lines.proofs.on_units.FirstUnitLemmas.{is_closed-leaves_open}
use Rattle.mk_lines.specs.Words.{is_gap}
use Rattle.mk_class.specs.Symbols.{is_equals, is_escape, is_dollar_before_blank, is_unreadable_unit, is_blank_or_backslash}
use Rattle.mk_class.specs.CutTexts.{is_in_head}
use Rattle.mk_class.proofs.on_classes.ClassLemmas.{has_stray-append, has_stray-left, has_stray-right}

-- ---- each element of a list is such

abbrev pub AllAre : {A : Type 0} → (A → Type 0) → List A → Type 0
AllAre P [] = Unit {0}
AllAre P (x ∷ xs) = P x × AllAre P xs

pub AllAre-append : {A : Type 0} (P : A → Type 0) (a b : List A) → AllAre P a → AllAre P b → AllAre P (a ++ b)
AllAre-append P [] b h k = k
AllAre-append P (x ∷ a) b h k = (h.0, AllAre-append P a b h.1 k)

pub AllAre-left : {A : Type 0} (P : A → Type 0) (a b : List A) → AllAre P (a ++ b) → AllAre P a
AllAre-left P [] b h = tt
AllAre-left P (x ∷ a) b h = (h.0, AllAre-left P a b h.1)

pub AllAre-right : {A : Type 0} (P : A → Type 0) (a b : List A) → AllAre P (a ++ b) → AllAre P b
AllAre-right P [] b h = h
AllAre-right P (x ∷ a) b h = AllAre-right P a b h.1

-- ---- bytes of marks

-- the byte of a mark
abbrev mark_byte : Mark → ℕ
mark_byte Dollar = 36
mark_byte Escape = 92
mark_byte OpenParen = 40
mark_byte CloseParen = 41
mark_byte OpenBrace = 123
mark_byte CloseBrace = 125
mark_byte Unmarked = 0

chosen : (b n : ℕ) (c : Bool) (t rest s : Mark) → (c ≡ true → b ≡ n) → mark_byte t ≡ n → (rest ≡ s → b ≡ mark_byte s) → cond c t rest ≡ s → b ≡ mark_byte s
chosen b n true t rest s e f g h = e refl ∙ (sym f ∙ ap mark_byte h)
chosen b n false t rest s e f g h = g h

mark-byte : (b : ℕ) (s : Mark) → (Unmarked ≡ s → ⊥) → byte_mark b ≡ s → b ≡ mark_byte s
mark-byte b s n =
    chosen b 36 (b == 36) Dollar _ s (eqb-true b 36) refl (
    chosen b 92 (b == 92) Escape _ s (eqb-true b 92) refl (
    chosen b 40 (b == 40) OpenParen _ s (eqb-true b 40) refl (
    chosen b 41 (b == 41) CloseParen _ s (eqb-true b 41) refl (
    chosen b 123 (b == 123) OpenBrace _ s (eqb-true b 123) refl (
    chosen b 125 (b == 125) CloseBrace _ s (eqb-true b 125) refl (
    λ h. absurd (n h)))))))

-- ---- solid: cells that join whatever stands beside them

-- cells that begin with a byte that is no blank, and so does whatever stands before them join
pub record BeginsSolid (cs : List Cell) : Type 0 where
  pub first : ℕ
  pub rest : List Cell
  pub is : cs ≡ Byte first ∷ rest
  pub no_blank : is_blank_kind (byte_kind first) ≡ false

-- cells that end in an ordinary byte, which joins whatever stands after it
pub record EndsSolid (cs : List Cell) : Type 0 where
  pub front : List Cell
  pub last : ℕ
  pub is : cs ≡ front ++ Byte last ∷ []
  pub ordinary : byte_kind last ≡ Ordinary

pub BeginsSolid-before : (a b : List Cell) → BeginsSolid a → BeginsSolid (a ++ b)
BeginsSolid-before a b h = record { first = h.first; rest = h.rest ++ b; is = ap (λ z. z ++ b) h.is; no_blank = h.no_blank }

pub EndsSolid-after : (a b : List Cell) → EndsSolid b → EndsSolid (a ++ b)
EndsSolid-after a b h = record { front = a ++ h.front; last = h.last; is = ap (λ z. a ++ z) h.is ∙ sym (append_assoc a h.front (Byte h.last ∷ [])); ordinary = h.ordinary }

-- cells put together, if the first end in such a byte, or if the second begin in one
pub line_cells-after_solid : (a b : List Cell) → AreLineCells a → AreLineCells b → EndsSolid a → AreLineCells (a ++ b)
line_cells-after_solid a b h k s = AreLineCells-append a b h k (subst (λ z. Joins z b) (sym s.is) (Joins-ordinary s.front s.last b s.ordinary))

pub line_cells-before_solid : (a b : List Cell) → AreLineCells a → AreLineCells b → BeginsSolid b → AreLineCells (a ++ b)
line_cells-before_solid a b h k s = AreLineCells-append a b h k (subst (Joins a) (sym s.is) (Joins-solid a s.first s.rest s.no_blank))

-- ---- what a unit begins and ends in

ordinary-kind : (k : ByteKind) (z : Bool) → is_stray_by k z ≡ false → is_backslash_kind k ≡ false → is_blank_kind k ≡ false → k ≡ Ordinary
ordinary-kind LineFeed z h i j = cc
ordinary-kind CarriageReturn z h i j = cc
ordinary-kind Backslash z h i j = cc
ordinary-kind Blank z h i j = cc
ordinary-kind Ordinary z h i j = refl

-- a cell that is not stray, no backslash and no blank is an ordinary byte
pub ordinary-cell : (c : Cell) → has_stray (c ∷ []) ≡ false → is_backslash_kind (byte_kind (joined_byte c)) ≡ false → is_blank_kind (byte_kind (joined_byte c)) ≡ false
    → (b : ℕ) × (c ≡ Byte b) × (byte_kind b ≡ Ordinary)
ordinary-cell (Byte b) h i j = (b, refl, ordinary-kind (byte_kind b) (b == 0) ((or_parts (is_stray_by (byte_kind b) (b == 0)) false h).0) i j)
ordinary-cell (Fold r) h i j = cc
ordinary-cell (LfEnd r) h i j = cc
ordinary-cell (CrLfEnd r) h i j = cc

-- the cell of a mark is a byte
marked-cell : (c : Cell) (m : Mark) → (Unmarked ≡ m → ⊥) → byte_mark (joined_byte c) ≡ m → (b : ℕ) × (c ≡ Byte b) × (b ≡ mark_byte m)
marked-cell (Byte b) m n h = (b, refl, mark-byte b m n h)
marked-cell (Fold r) m n h = absurd (n h)
marked-cell (LfEnd r) m n h = absurd (n h)
marked-cell (CrLfEnd r) m n h = absurd (n h)

-- cells that end in an ordinary byte
abbrev EndsIn : List Cell → Type 0
EndsIn r = (p : List Cell) × (x : ℕ) × (r ≡ p ++ Byte x ∷ []) × (byte_kind x ≡ Ordinary)

one_more : (c : Cell) (r : List Cell) → EndsIn r → EndsIn (c ∷ r)
one_more c r h = (c ∷ h.0, h.1, ap (λ z. c ∷ z) h.2, h.3)

alone : (c : Cell) (r : List Cell) (m : Mark) → (Unmarked ≡ m → ⊥) → byte_kind (mark_byte m) ≡ Ordinary → byte_mark (joined_byte c) ≡ m → continuation (unit_step joined_byte) (unit_begins joined_byte) Between r ≡ r → EndsIn (c ∷ r)
alone c [] m n k h e = let s = marked-cell c m n h in ([], s.0, ap (λ z. z ∷ []) s.1, ap byte_kind s.2 ∙ k)
alone c (d ∷ r) m n k h e = cc

-- the rest of a closed reference ends in its bracket
parens-end : (n : ℕ) (r : List Cell) → state_after (unit_step joined_byte) (InParens n) r ≡ Between → continuation (unit_step joined_byte) (unit_begins joined_byte) (InParens n) r ≡ r → EndsIn r
parens-end n [] h e = cc
parens-end n (c ∷ r) h e = go n (byte_mark (joined_byte c)) refl h (cc) (λ k. parens-end k r)
  where
    go : (n : ℕ) (m : Mark) → byte_mark (joined_byte c) ≡ m → state_after (unit_step joined_byte) (next_unit_state (InParens n) m) r ≡ Between
        → continuation (unit_step joined_byte) (unit_begins joined_byte) (next_unit_state (InParens n) m) r ≡ r
        → ((k : ℕ) → state_after (unit_step joined_byte) (InParens k) r ≡ Between → continuation (unit_step joined_byte) (unit_begins joined_byte) (InParens k) r ≡ r → EndsIn r) → EndsIn (c ∷ r)
    go zero CloseParen f h e i = alone c r CloseParen (λ x. cc) refl f e
    go (suc n) CloseParen f h e i = one_more c r (i n h e)
    go zero OpenParen f h e i = one_more c r (i 1 h e)
    go (suc n) OpenParen f h e i = one_more c r (i (suc (suc n)) h e)
    go zero Dollar f h e i = one_more c r (i 0 h e)
    go (suc n) Dollar f h e i = one_more c r (i (suc n) h e)
    go zero Escape f h e i = one_more c r (i 0 h e)
    go (suc n) Escape f h e i = one_more c r (i (suc n) h e)
    go zero OpenBrace f h e i = one_more c r (i 0 h e)
    go (suc n) OpenBrace f h e i = one_more c r (i (suc n) h e)
    go zero CloseBrace f h e i = one_more c r (i 0 h e)
    go (suc n) CloseBrace f h e i = one_more c r (i (suc n) h e)
    go zero Unmarked f h e i = one_more c r (i 0 h e)
    go (suc n) Unmarked f h e i = one_more c r (i (suc n) h e)

braces-end : (n : ℕ) (r : List Cell) → state_after (unit_step joined_byte) (InBraces n) r ≡ Between → continuation (unit_step joined_byte) (unit_begins joined_byte) (InBraces n) r ≡ r → EndsIn r
braces-end n [] h e = cc
braces-end n (c ∷ r) h e = go n (byte_mark (joined_byte c)) refl h (cc) (λ k. braces-end k r)
  where
    go : (n : ℕ) (m : Mark) → byte_mark (joined_byte c) ≡ m → state_after (unit_step joined_byte) (next_unit_state (InBraces n) m) r ≡ Between
        → continuation (unit_step joined_byte) (unit_begins joined_byte) (next_unit_state (InBraces n) m) r ≡ r
        → ((k : ℕ) → state_after (unit_step joined_byte) (InBraces k) r ≡ Between → continuation (unit_step joined_byte) (unit_begins joined_byte) (InBraces k) r ≡ r → EndsIn r) → EndsIn (c ∷ r)
    go zero CloseBrace f h e i = alone c r CloseBrace (λ x. cc) refl f e
    go (suc n) CloseBrace f h e i = one_more c r (i n h e)
    go zero OpenBrace f h e i = one_more c r (i 1 h e)
    go (suc n) OpenBrace f h e i = one_more c r (i (suc (suc n)) h e)
    go zero Dollar f h e i = one_more c r (i 0 h e)
    go (suc n) Dollar f h e i = one_more c r (i (suc n) h e)
    go zero Escape f h e i = one_more c r (i 0 h e)
    go (suc n) Escape f h e i = one_more c r (i (suc n) h e)
    go zero OpenParen f h e i = one_more c r (i 0 h e)
    go (suc n) OpenParen f h e i = one_more c r (i (suc n) h e)
    go zero CloseParen f h e i = one_more c r (i 0 h e)
    go (suc n) CloseParen f h e i = one_more c r (i (suc n) h e)
    go zero Unmarked f h e i = one_more c r (i 0 h e)
    go (suc n) Unmarked f h e i = one_more c r (i (suc n) h e)

-- what follows the dollar of a closed unit ends in an ordinary byte
dollar-end : (d : Cell) (r : List Cell) → state_after (unit_step joined_byte) AfterDollar (d ∷ r) ≡ Between → continuation (unit_step joined_byte) (unit_begins joined_byte) AfterDollar (d ∷ r) ≡ d ∷ r
    → has_stray (d ∷ r) ≡ false → is_blank_or_backslash (joined_byte d) ≡ false → EndsIn (d ∷ r)
dollar-end d r h e t b = go (byte_mark (joined_byte d)) refl h (cc)
  where
    last : (r : List Cell) → continuation (unit_step joined_byte) (unit_begins joined_byte) Between r ≡ r → has_stray (d ∷ r) ≡ false → EndsIn (d ∷ r)
    last [] e t =
        let p = or_parts (is_blank_kind (byte_kind (joined_byte d))) (is_backslash_kind (byte_kind (joined_byte d))) b in
        let s = ordinary-cell d t p.1 p.0 in
        ([], s.0, ap (λ z. z ∷ []) s.1, s.2)
    last (x ∷ r) e t = cc

    go : (m : Mark) → byte_mark (joined_byte d) ≡ m → state_after (unit_step joined_byte) (next_unit_state AfterDollar m) r ≡ Between
        → continuation (unit_step joined_byte) (unit_begins joined_byte) (next_unit_state AfterDollar m) r ≡ r → EndsIn (d ∷ r)
    go OpenParen f h e = one_more d r (parens-end 0 r h e)
    go OpenBrace f h e = one_more d r (braces-end 0 r h e)
    go Dollar f h e = last r e t
    go Escape f h e = last r e t
    go CloseParen f h e = last r e t
    go CloseBrace f h e = last r e t
    go Unmarked f h e = last r e t

-- ---- units of a head

-- a unit of a head that can be read
pub record IsHeadUnit (u : List Cell) : Type 0 where
  pub whole : units joined_byte u ≡ u ∷ []
  pub closed : is_closed joined_byte u ≡ true
  pub no_stray : has_stray u ≡ false
  pub readable : (is_equals joined_byte u || is_unreadable_unit joined_byte u) ≡ false
  pub in_head : is_in_head joined_byte u ≡ true

-- solid cells, which join whatever stands on either side
pub record IsSolid (u : List Cell) : Type 0 where
  pub begins : BeginsSolid u
  pub ends : EndsSolid u

-- one that is no gap joins whatever stands beside it
pub head_unit-solid : (u : List Cell) → IsHeadUnit u → is_gap joined_byte u ≡ false → IsSolid u
head_unit-solid [] h g = absurd (let k : [] ≡ [] ∷ [] = h.whole in cc)
head_unit-solid (c ∷ []) h g =
    let r = (or_parts (is_equals joined_byte (c ∷ [])) (is_unreadable_unit joined_byte (c ∷ [])) h.readable).1 in
    let e = (or_parts (is_escape joined_byte (c ∷ [])) _ r).0 in
    let s = ordinary-cell c h.no_stray e g in
    record {
      begins = record { first = s.0; rest = []; is = ap (λ z. z ∷ []) s.1; no_blank = ap is_blank_kind s.2 };
      ends = record { front = []; last = s.0; is = ap (λ z. z ∷ []) s.1; ordinary = s.2 };
    }
head_unit-solid (c ∷ d ∷ u) h g = go (byte_mark (joined_byte c)) refl (cc) (is_closed-between joined_byte (c ∷ d ∷ u) h.closed)
  where
    escape : byte_mark (joined_byte c) ≡ Escape → ⊥
    escape f =
        let b = marked-cell c Escape (λ x. cc) f in
        let e : is_backslash_kind (byte_kind (joined_byte c)) ≡ true = ap (λ z. is_backslash_kind (byte_kind (joined_byte z))) b.1 ∙ ap (λ z. is_backslash_kind (byte_kind z)) b.2 in
        let r = (or_parts (is_equals joined_byte (c ∷ d ∷ u)) (is_unreadable_unit joined_byte (c ∷ d ∷ u)) h.readable).1 in
        let k : true ≡ false = sym e ∙ (or_parts (is_escape joined_byte (c ∷ d ∷ u)) _ r).0 in
        cc

    next : is_dollar_before_blank joined_byte (c ∷ d ∷ u) ≡ false → byte_mark (joined_byte c) ≡ Dollar → is_blank_or_backslash (joined_byte d) ≡ false
    next k f = rw f at k

    go : (m : Mark) → byte_mark (joined_byte c) ≡ m → continuation (unit_step joined_byte) (unit_begins joined_byte) (next_unit_state Between m) (d ∷ u) ≡ d ∷ u
        → state_after (unit_step joined_byte) (next_unit_state Between m) (d ∷ u) ≡ Between → IsSolid (c ∷ d ∷ u)
    go Dollar f e k =
        let r = (or_parts (is_equals joined_byte (c ∷ d ∷ u)) (is_unreadable_unit joined_byte (c ∷ d ∷ u)) h.readable).1 in
        let s = (or_parts (is_escape joined_byte (c ∷ d ∷ u)) _ r).1 in
        let n = next ((or_parts (is_dollar_before_blank joined_byte (c ∷ d ∷ u)) _ s).0) f in
        let b = marked-cell c Dollar (λ x. cc) f in
        let l = dollar-end d u k e (has_stray-right (c ∷ []) (d ∷ u) h.no_stray) n in
        record {
          begins = record { first = b.0; rest = d ∷ u; is = ap (λ z. z ∷ d ∷ u) b.1; no_blank = ap (λ z. is_blank_kind (byte_kind z)) b.2 };
          ends = record { front = c ∷ l.0; last = l.1; is = ap (λ z. c ∷ z) l.2; ordinary = l.3 };
        }
    go Escape f e k = absurd (escape f)
    go OpenParen f e k = cc
    go CloseParen f e k = cc
    go OpenBrace f e k = cc
    go CloseBrace f e k = cc
    go Unmarked f e k = cc

-- ---- the units of a text

lone-escape : (u : List Cell) → is_escape joined_byte u ≡ false → is_lone_backslash joined_byte u ≡ false
lone-escape [] h = refl
lone-escape (c ∷ []) h = go (byte_mark (joined_byte c)) refl
  where
    go : (m : Mark) → byte_mark (joined_byte c) ≡ m → is_backslash_mark joined_byte m ≡ false
    go Dollar f = refl
    go Escape f =
        let b = marked-cell c Escape (λ x. cc) f in
        let e : is_backslash_kind (byte_kind (joined_byte c)) ≡ true = ap (λ z. is_backslash_kind (byte_kind (joined_byte z))) b.1 ∙ ap (λ z. is_backslash_kind (byte_kind z)) b.2 in
        sym e ∙ h
    go OpenParen f = refl
    go CloseParen f = refl
    go OpenBrace f = refl
    go CloseBrace f = refl
    go Unmarked f = refl
lone-escape (c ∷ d ∷ u) h = refl

closed-unit : (u : List Cell) → units joined_byte u ≡ u ∷ [] → is_unreadable_unit joined_byte u ≡ false → is_closed joined_byte u ≡ true
closed-unit u h r =
    let e = or_parts (is_escape joined_byte u) (is_dollar_before_blank joined_byte u || is_unclosed_unit joined_byte u) r in
    let n = or_parts (is_dollar_before_blank joined_byte u) (is_unclosed_unit joined_byte u) e.1 in
    is_closed-leaves_open joined_byte u ∙ (ap (λ z. not (leaves_open joined_byte z)) h ∙ rw (n.1, lone-escape u e.0) refl)

-- the first units of a text are units of a head, if they have no stray byte, can be read and stand in the head
pub first_units-are_head_units : (us rest : List (List Cell)) → units joined_byte (concat (us ++ rest)) ≡ us ++ rest → has_stray (concat us) ≡ false
    → list_any (λ u. is_equals joined_byte u || is_unreadable_unit joined_byte u) us ≡ false → Each (is_in_head joined_byte) us → AllAre IsHeadUnit us
first_units-are_head_units [] rest h s r i = tt
first_units-are_head_units (u ∷ us) rest h s r i =
    let n = append-nil u in
    let w : units joined_byte u ≡ u ∷ [] = subst (λ z. units joined_byte z ≡ u ∷ []) n (units-first joined_byte (concat ((u ∷ us) ++ rest)) (u ∷ []) (us ++ rest) h) in
    let p = or_parts (is_equals joined_byte u || is_unreadable_unit joined_byte u) (list_any (λ z. is_equals joined_byte z || is_unreadable_unit joined_byte z) us) r in (
      record {
        whole = w;
        closed = closed-unit u w ((or_parts (is_equals joined_byte u) (is_unreadable_unit joined_byte u) p.0).1);
        no_stray = has_stray-left u (concat us) s;
        readable = p.0;
        in_head = i.0;
      },
      first_units-are_head_units us rest (units-last joined_byte (concat ((u ∷ us) ++ rest)) (u ∷ []) (us ++ rest) h) (has_stray-right u (concat us) s) p.1 i.1,
    )

-- such units are read again from their cells, before any other units that are
pub head_units-again : (us rest : List (List Cell)) → AllAre IsHeadUnit us → units joined_byte (concat rest) ≡ rest → units joined_byte (concat (us ++ rest)) ≡ us ++ rest
head_units-again [] rest h k = k
head_units-again (u ∷ us) rest h k = units-append joined_byte u (concat (us ++ rest)) h.0.closed ∙ (rw (h.0.whole, head_units-again us rest h.1 k) refl)

-- such units have no stray byte
pub head_units-no_stray : (us : List (List Cell)) → AllAre IsHeadUnit us → has_stray (concat us) ≡ false
head_units-no_stray [] h = refl
head_units-no_stray (u ∷ us) h = has_stray-append u (concat us) h.0.no_stray (head_units-no_stray us h.1)

-- such units can be read
pub head_units-readable : (us : List (List Cell)) → AllAre IsHeadUnit us → list_any (λ u. is_equals joined_byte u || is_unreadable_unit joined_byte u) us ≡ false
head_units-readable [] h = refl
head_units-readable (u ∷ us) h = rw (h.0.readable) (head_units-readable us h.1)

-- such units stand in the head
pub head_units-in_head : (us : List (List Cell)) → AllAre IsHeadUnit us → Each (is_in_head joined_byte) us
head_units-in_head [] h = tt
head_units-in_head (u ∷ us) h = (h.0.in_head, head_units-in_head us h.1)
