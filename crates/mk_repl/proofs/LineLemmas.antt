-- The first physical line of known bytes, read byte by byte.
use Rattle.std.proofs.Common.{◌≡◌, refl, sym, ap, ◌∙◌, subst, ℕ, ◌<◌, ◌≤◌, zero, suc, Bool, true, false, List, [], ◌∷◌, ◌++◌, length, take, arith, append_assoc, length-append, get_or}
use Rattle.std.specs.Prelude.{Option, None, Some, ⊤, ◌==◌}
use Rattle.std.specs.Io.KnownBytes.{Consumes, IsAtEnd, Keeps}
use Rattle.std.proofs.KnownBytes.{Consumes-trans}
use Rattle.std.specs.Io.BufRead.{take_through, drop_through}
use Rattle.std.proofs.lemmas.Bool.{eqb-true}
use Rattle.std.proofs.lemmas.List.{append-nil}
use Rattle.mk_lines.specs.Bytes.{byte_kind, LineFeed}
use Rattle.mk_lines.specs.Lists.{onto_first}
use Rattle.mk_lines.specs.PhysicalLines.{physical_lines}
use Rattle.mk_lines.proofs.on_lists.ByteLemmas.{line_feed-byte}
use Rattle.mk_lines.proofs.on_lines.LineCut.{NoLineFeed, NoLineFeed-append, before_lines-ordinary}
use Rattle.mk_repl.specs.InputLines.{before_line_feed, IsLong, IsShort, LosesLine, LosesRest}

-- ---- one byte

-- a byte that is no line feed
ordinary : (b : ℕ) → (b == 10) ≡ false → byte_kind b ≡ LineFeed → ⊥
ordinary b other is = absurd (feed (sym (ap (λ x. x == 10) (line_feed-byte b is)) ∙ other))
  where
    feed : true ≡ false → ⊥
    feed e = cc

-- ---- physical lines

-- a line up to its line feed
feed-line : (p t : List ℕ) → NoLineFeed p → physical_lines (p ++ 10 ∷ t) ≡ (p ++ 10 ∷ []) ∷ physical_lines t
feed-line [] t h = refl
feed-line (b ∷ p) t h =
    before_lines-ordinary (byte_kind b) b (physical_lines (p ++ 10 ∷ t)) h.0 ∙ ap (onto_first (b ∷ [])) (feed-line p t h.1)

-- a last line without a line feed
last-line : (p : List ℕ) → 0 < length p → NoLineFeed p → physical_lines p ≡ p ∷ []
last-line [] some h = absurd (omega arith)
last-line (b ∷ []) some h = before_lines-ordinary (byte_kind b) b [] h.0
last-line (b ∷ c ∷ p) some h =
    before_lines-ordinary (byte_kind b) b (physical_lines (c ∷ p)) h.0
    ∙ ap (onto_first (b ∷ [])) (last-line (c ∷ p) (omega arith) h.1)

-- ---- the bytes before the line feed

before-none : (p : List ℕ) → NoLineFeed p → before_line_feed p ≡ p
before-none [] h = refl
before-none (b ∷ p) h = go (before-none p h.1) (b == 10) refl
  where
    go : before_line_feed p ≡ p → (c : Bool) → (b == 10) ≡ c → before_line_feed (b ∷ p) ≡ b ∷ p
    go rest true e = absurd (h.0 (rw (eqb-true b 10 e) refl))
    go rest false e = rw e (ap (λ l. b ∷ l) rest)

before-feed : (p t : List ℕ) → NoLineFeed p → before_line_feed (p ++ 10 ∷ t) ≡ p
before-feed [] t h = refl
before-feed (b ∷ p) t h = go (before-feed p t h.1) (b == 10) refl
  where
    go : before_line_feed (p ++ 10 ∷ t) ≡ p → (c : Bool) → (b == 10) ≡ c → before_line_feed (b ∷ (p ++ 10 ∷ t)) ≡ b ∷ p
    go rest true e = absurd (h.0 (rw (eqb-true b 10 e) refl))
    go rest false e = rw e (ap (λ l. b ∷ l) rest)

before-long : (p t : List ℕ) → NoLineFeed p → length p ≤ length (before_line_feed (p ++ t))
before-long [] t h = omega arith
before-long (b ∷ p) t h = go (before-long p t h.1) (b == 10) refl
  where
    go : length p ≤ length (before_line_feed (p ++ t)) → (c : Bool) → (b == 10) ≡ c → length (b ∷ p) ≤ length (before_line_feed (b ∷ (p ++ t)))
    go rest true e = absurd (h.0 (rw (eqb-true b 10 e) refl))
    go rest false e = rw e (omega (arith, rest))

-- ---- a line that is skipped

-- known bytes whose first line ends where that of others ends
abbrev pub SameRest : (first now : Option (List ℕ)) → Type 0
SameRest None now = ⊤
SameRest (Some xs) None = ⊥
SameRest (Some xs) (Some ys) = drop_through 10 xs ≡ drop_through 10 ys

pub SameRest-refl : (x : Option (List ℕ)) → SameRest x x
SameRest-refl None = tt
SameRest-refl (Some xs) = refl

-- ---- a line that is read

-- the line that begins with bytes without a line feed
through : (p xs : List ℕ) → 0 < length p → NoLineFeed p
    → physical_lines (p ++ xs) ≡ (p ++ take_through 10 xs) ∷ physical_lines (drop_through 10 xs)
through p [] some h = rw (append-nil p) (last-line p some h)
through p (x ∷ xs) some h =
    go (λ others. through (p ++ x ∷ []) xs (omega (arith, some, length-append p (x ∷ []))) (NoLineFeed-append p (x ∷ []) h (others, tt))) (x == 10) refl
  where
    go : ((byte_kind x ≡ LineFeed → ⊥) → physical_lines ((p ++ x ∷ []) ++ xs) ≡ ((p ++ x ∷ []) ++ take_through 10 xs) ∷ physical_lines (drop_through 10 xs))
        → (c : Bool) → (x == 10) ≡ c → physical_lines (p ++ x ∷ xs) ≡ (p ++ take_through 10 (x ∷ xs)) ∷ physical_lines (drop_through 10 (x ∷ xs))
    go rest true e = rw (eqb-true x 10 e) (feed-line p xs h)
    go rest false e =
        rw e
        (ap physical_lines (sym (append_assoc p (x ∷ []) xs)) ∙ rest (ordinary x e)
        ∙ ap (λ l. l ∷ physical_lines (drop_through 10 xs)) (append_assoc p (x ∷ []) (take_through 10 xs)))

-- nothing is left
read-end : (x y z : Option (List ℕ)) → Consumes x y [] → Consumes y z [] → IsAtEnd z → IsAtEnd x × Keeps x z
read-end None y z h k e = (tt, tt)
read-end (Some xs) None z h k e = absurd h
read-end (Some xs) (Some ys) None h k e = absurd k
read-end (Some xs) (Some ys) (Some zs) h k e = (h ∙ k ∙ e, sym (h ∙ k))

-- the last line, without a line feed
read-last : (x y z : Option (List ℕ)) (p : List ℕ) → Consumes x y p → Consumes y z [] → IsAtEnd z → 0 < length p → NoLineFeed p → LosesLine x z p
read-last None y z p h k e some none = tt
read-last (Some xs) None z p h k e some none = absurd h
read-last (Some xs) (Some ys) None p h k e some none = absurd k
read-last (Some xs) (Some ys) (Some zs) p h k e some none =
    (h ∙ ap (λ t. p ++ t) k, ap physical_lines (h ∙ ap (λ t. p ++ t) (k ∙ e) ∙ append-nil p) ∙ last-line p some none ∙ ap (λ t. p ∷ physical_lines t) (sym e))

-- a line up to its line feed
read-feed : (x y z : Option (List ℕ)) (p : List ℕ) → Consumes x y p → Consumes y z (10 ∷ []) → NoLineFeed p → LosesLine x z (p ++ 10 ∷ [])
read-feed None y z p h k none = tt
read-feed (Some xs) None z p h k none = absurd h
read-feed (Some xs) (Some ys) None p h k none = absurd k
read-feed (Some xs) (Some ys) (Some zs) p h k none =
    let all : xs ≡ p ++ 10 ∷ zs = h ∙ ap (λ t. p ++ t) k in
    (all ∙ sym (append_assoc p (10 ∷ []) zs), ap physical_lines all ∙ feed-line p zs none)

-- bytes are those of their first line and the rest
parts : (ys : List ℕ) → ys ≡ take_through 10 ys ++ drop_through 10 ys
parts [] = refl
parts (b ∷ ys) = go (parts ys) (b == 10) refl
  where
    go : ys ≡ take_through 10 ys ++ drop_through 10 ys → (c : Bool) → (b == 10) ≡ c → b ∷ ys ≡ take_through 10 (b ∷ ys) ++ drop_through 10 (b ∷ ys)
    go rest true e = rw e refl
    go rest false e = rw e (ap (λ l. b ∷ l) rest)

-- a line that is too long
pub read-long : (x y z : Option (List ℕ)) (p : List ℕ) → Consumes x y p → LosesRest y z → NoLineFeed p → 65536 ≤ length p
    → (long : List ℕ) × LosesLine x z long × IsLong long
read-long None y z p h k none many = (p, tt, rw (before-none p none) many)
read-long (Some xs) None z p h k none many = absurd h
read-long (Some xs) (Some ys) z p h k none many = (
  p ++ take_through 10 ys,
  subst (λ after. LosesLine (Some xs) after (p ++ take_through 10 ys)) (sym k) (
    h ∙ ap (λ t. p ++ t) (parts ys) ∙ sym (append_assoc p (take_through 10 ys) (drop_through 10 ys)),
    ap physical_lines h ∙ through p ys (omega (arith, many)) none,
  ),
  omega (arith, many, before-long p (take_through 10 ys) none),
)

-- ---- what one read gave of a buffer of one byte

one-byte : (n : ℕ) (buf : List ℕ) → n ≤ length buf → length buf ≡ 1 → (n ≡ 0 → ⊥) → take n buf ≡ get_or buf 0 0 ∷ []
one-byte n [] within one some = absurd (omega (arith, one))
one-byte zero (b ∷ buf) within one some = absurd (some refl)
one-byte (suc zero) (b ∷ buf) within one some = refl
one-byte (suc (suc n)) (b ∷ buf) within one some = absurd (omega (arith, within, one))

-- no line is left
pub ends : (x y z : Option (List ℕ)) (p buf : List ℕ) (n : ℕ) → Consumes x y p → Consumes y z (take n buf) → n ≡ 0 → IsAtEnd z
    → length p ≡ 0 → IsAtEnd x × Keeps x z × (p ≡ [])
ends x y z [] buf n h k none end empty =
    let both = read-end x y z h (subst (λ n. Consumes y z (take n buf)) none k) end in
    (both.0, both.1, refl)
ends x y z (b ∷ p) buf n h k none end empty = absurd (omega (arith, empty))

-- the last line ends with the bytes
pub last : (x y z : Option (List ℕ)) (p buf : List ℕ) (n : ℕ) → Consumes x y p → Consumes y z (take n buf) → n ≡ 0 → IsAtEnd z
    → (length p ≡ 0 → ⊥) → NoLineFeed p → length p < 65536 → LosesLine x z p × IsShort p
last x y z p buf n h k none end some plain few =
    (read-last x y z p h (subst (λ n. Consumes y z (take n buf)) none k) end (omega (arith, some)) plain, rw (before-none p plain) few)

-- a line feed came
pub feeds : (x y z : Option (List ℕ)) (p q buf : List ℕ) (n : ℕ) → Consumes x y p → Consumes y z (take n buf) → n ≤ length buf
    → length buf ≡ 1 → (n ≡ 0 → ⊥) → get_or buf 0 0 ≡ 10 → q ≡ p ++ get_or buf 0 0 ∷ [] → NoLineFeed p → length p < 65536
    → LosesLine x z q × IsShort q
feeds x y z p q buf n h k within one some is all plain few =
    let line : q ≡ p ++ 10 ∷ [] = all ∙ ap (λ b. p ++ b ∷ []) is in
    let taken : take n buf ≡ 10 ∷ [] = one-byte n buf within one some ∙ ap (λ b. b ∷ []) is in (
      subst (λ q. LosesLine x z q) (sym line) (read-feed x y z p h (subst (λ bytes. Consumes y z bytes) taken k) plain),
      subst IsShort (sym line) (rw (before-feed p [] plain) few),
    )

-- another byte came
pub grows : (x y z : Option (List ℕ)) (p q buf : List ℕ) (n : ℕ) → Consumes x y p → Consumes y z (take n buf) → n ≤ length buf
    → length buf ≡ 1 → (n ≡ 0 → ⊥) → (get_or buf 0 0 ≡ 10 → ⊥) → q ≡ p ++ get_or buf 0 0 ∷ [] → NoLineFeed p
    → NoLineFeed q × Consumes x z q
grows x y z p q buf n h k within one some other all plain = (
  subst NoLineFeed (sym all)
      (NoLineFeed-append p (get_or buf 0 0 ∷ []) plain ((λ is. other (line_feed-byte (get_or buf 0 0) is)), tt)),
  subst (λ q. Consumes x z q) (sym all)
      (Consumes-trans x y z p (get_or buf 0 0 ∷ []) h (subst (λ bytes. Consumes y z bytes) (one-byte n buf within one some) k)),
)
