-- Logical lines are the pieces that a machine of four states cuts, one byte after the other.
use Rattle.std.proofs.Common.{◌≡◌, refl, sym, ap, ◌∙◌, ℕ, List, [], ◌∷◌, ◌++◌, Bool, true, false, not, append_assoc, reverse}
use Rattle.std.proofs.lemmas.List.{reverse-append, reverse-reverse, append-nil}
use mathlib.Core.Logic.{◌⊎◌, inl, inr}
use Rattle.mk_lines.specs.Cut.{state_after, continuation, pieces}
use Rattle.mk_lines.proofs.on_lists.CutLemmas.{state_after-append}
use Rattle.mk_lines.specs.Lists.{onto_first}
use Rattle.mk_lines.specs.Bytes.{ByteKind, byte_kind, LineFeed, CarriageReturn, Backslash, Blank, Ordinary}
use Rattle.mk_lines.specs.PhysicalLines.{physical_lines, before_lines, drop_carriage_return, drop_carriage_return_at}
use Rattle.mk_lines.specs.LogicalLines.{starts_with_odd_run, starts_with_odd_run_at, is_continued, grouped, before_group, logical_lines}

-- The state after a text: at the start of a line, or in a line. In a line, after an odd run of backslashes, or after one with a
-- carriage return behind it, the next line feed continues the line.
pub data LineState : Type 0 where
  AtStart : LineState
  InLine : LineState
  AfterOddRun : LineState
  AfterOddRunCr : LineState

-- the state after one more byte
abbrev pub next_line_state : LineState → ByteKind → LineState
next_line_state AfterOddRun LineFeed = InLine
next_line_state AfterOddRunCr LineFeed = InLine
next_line_state s LineFeed = AtStart
next_line_state AfterOddRun CarriageReturn = AfterOddRunCr
next_line_state s CarriageReturn = InLine
next_line_state AfterOddRun Backslash = InLine
next_line_state s Backslash = AfterOddRun
next_line_state s k = InLine

-- whether the state after a text is the start of a line
abbrev pub is_at_start : LineState → Bool
is_at_start AtStart = true
is_at_start s = false

-- the state after one more byte of a text
abbrev pub line_step : LineState → ℕ → LineState
line_step s b = next_line_state s (byte_kind b)

-- whether a byte begins a line
abbrev pub line_begins : LineState → ℕ → Bool
line_begins s b = is_at_start s

-- the lines that begin in a text
abbrev pub line_pieces : LineState → List ℕ → List (List ℕ)
line_pieces s t = pieces line_step line_begins s t

-- what at the front of a text continues the line before it
abbrev pub line_continuation : LineState → List ℕ → List ℕ
line_continuation s t = continuation line_step line_begins s t

-- the state after a text
abbrev pub line_state_after : LineState → List ℕ → LineState
line_state_after s t = state_after line_step s t

-- ---- the state after a text, from the text read backwards

-- the state after a text that is read backwards and stands in a line
abbrev pub line_state_backwards : List ℕ → LineState
line_state_backwards [] = InLine
line_state_backwards (b ∷ r) = next_line_state (line_state_backwards r) (byte_kind b)

line_state_after-backwards : (r p : List ℕ) → line_state_after (line_state_backwards r) p ≡ line_state_backwards (reverse p ++ r)
line_state_after-backwards r [] = refl
line_state_after-backwards r (b ∷ p) = rw (reverse-append (b ∷ []) p, append_assoc (reverse p) (b ∷ []) r) (line_state_after-backwards (b ∷ r) p)

-- the state after a text, and the state from the text read backwards, agree
pub line_state_after-reverse : (p : List ℕ) → line_state_after InLine p ≡ line_state_backwards (reverse p)
line_state_after-reverse p = rw (append-nil (reverse p)) at (line_state_after-backwards [] p)

-- whether a state is after an odd run of backslashes; whether a line feed continues the line in this state
abbrev pub is_after_odd_run : LineState → Bool
is_after_odd_run AfterOddRun = true
is_after_odd_run s = false

-- whether a line feed continues the line
abbrev pub is_continued_state : LineState → Bool
is_continued_state AfterOddRun = true
is_continued_state AfterOddRunCr = true
is_continued_state s = false

backslash-odd_run : (s : LineState) → not (is_after_odd_run s) ≡ is_after_odd_run (next_line_state s Backslash)
backslash-odd_run AtStart = refl
backslash-odd_run InLine = refl
backslash-odd_run AfterOddRun = refl
backslash-odd_run AfterOddRunCr = refl

odd_run-step : (k : ByteKind) (s : LineState) (o : Bool) → o ≡ is_after_odd_run s → starts_with_odd_run_at k o ≡ is_after_odd_run (next_line_state s k)
odd_run-step Backslash s o h = rw h (backslash-odd_run s)
odd_run-step LineFeed AtStart o h = refl
odd_run-step LineFeed InLine o h = refl
odd_run-step LineFeed AfterOddRun o h = refl
odd_run-step LineFeed AfterOddRunCr o h = refl
odd_run-step CarriageReturn AtStart o h = refl
odd_run-step CarriageReturn InLine o h = refl
odd_run-step CarriageReturn AfterOddRun o h = refl
odd_run-step CarriageReturn AfterOddRunCr o h = refl
odd_run-step Blank AtStart o h = refl
odd_run-step Blank InLine o h = refl
odd_run-step Blank AfterOddRun o h = refl
odd_run-step Blank AfterOddRunCr o h = refl
odd_run-step Ordinary AtStart o h = refl
odd_run-step Ordinary InLine o h = refl
odd_run-step Ordinary AfterOddRun o h = refl
odd_run-step Ordinary AfterOddRunCr o h = refl

-- an odd run of backslashes, by the state after a text
pub odd_run-state : (r : List ℕ) → starts_with_odd_run r ≡ is_after_odd_run (line_state_backwards r)
odd_run-state [] = refl
odd_run-state (b ∷ r) = odd_run-step (byte_kind b) (line_state_backwards r) (starts_with_odd_run r) (odd_run-state r)

-- an odd run of backslashes before a carriage return at the end, by the state after a text
pub drop_carriage_return-state : (r : List ℕ) → starts_with_odd_run (drop_carriage_return r) ≡ is_continued_state (line_state_backwards r)
drop_carriage_return-state [] = refl
drop_carriage_return-state (b ∷ r) = go (byte_kind b) refl (line_state_backwards r) (odd_run-state r)
  where
    go : (k : ByteKind) → byte_kind b ≡ k → (s : LineState) → starts_with_odd_run r ≡ is_after_odd_run s → starts_with_odd_run (drop_carriage_return_at k b r) ≡ is_continued_state (next_line_state s k)
    go CarriageReturn e AtStart h = h
    go CarriageReturn e InLine h = h
    go CarriageReturn e AfterOddRun h = h
    go CarriageReturn e AfterOddRunCr h = h
    go LineFeed e AtStart h = rw e refl
    go LineFeed e InLine h = rw e refl
    go LineFeed e AfterOddRun h = rw e refl
    go LineFeed e AfterOddRunCr h = rw e refl
    go Backslash e AtStart h = rw (e, h) refl
    go Backslash e InLine h = rw (e, h) refl
    go Backslash e AfterOddRun h = rw (e, h) refl
    go Backslash e AfterOddRunCr h = rw (e, h) refl
    go Blank e AtStart h = rw e refl
    go Blank e InLine h = rw e refl
    go Blank e AfterOddRun h = rw e refl
    go Blank e AfterOddRunCr h = rw e refl
    go Ordinary e AtStart h = rw e refl
    go Ordinary e InLine h = rw e refl
    go Ordinary e AfterOddRun h = rw e refl
    go Ordinary e AfterOddRunCr h = rw e refl

-- a physical line is continued if a line feed continues the line in the state before its line end
is_continued-state : (p : List ℕ) (b : ℕ) → byte_kind b ≡ LineFeed → is_continued (p ++ b ∷ []) ≡ is_continued_state (line_state_after InLine p)
is_continued-state p b e = rw (reverse-append p (b ∷ []), e, reverse-reverse (drop_carriage_return (reverse p)), line_state_after-reverse p) (drop_carriage_return-state (reverse p))

-- ---- the physical lines in groups are the pieces

-- no LF in a text
abbrev pub NoLineFeed : List ℕ → Type 0
NoLineFeed [] = Unit {0}
NoLineFeed (b ∷ t) = (byte_kind b ≡ LineFeed → ⊥) × NoLineFeed t

pub NoLineFeed-append : (p q : List ℕ) → NoLineFeed p → NoLineFeed q → NoLineFeed (p ++ q)
NoLineFeed-append [] q h k = k
NoLineFeed-append (b ∷ p) q h k = (h.0, NoLineFeed-append p q h.1 k)

pub before_lines-ordinary : (k : ByteKind) (b : ℕ) (ls : List (List ℕ)) → (k ≡ LineFeed → ⊥) → before_lines k b ls ≡ onto_first (b ∷ []) ls
before_lines-ordinary LineFeed b ls h = absurd (h refl)
before_lines-ordinary CarriageReturn b ls h = refl
before_lines-ordinary Backslash b ls h = refl
before_lines-ordinary Blank b ls h = refl
before_lines-ordinary Ordinary b ls h = refl

-- a text without LF before a physical line
before_first : List ℕ → List (List ℕ) → List (List ℕ)
before_first [] ls = ls
before_first (b ∷ p) ls = onto_first (b ∷ []) (before_first p ls)

physical_lines-append : (p t : List ℕ) → NoLineFeed p → physical_lines (p ++ t) ≡ before_first p (physical_lines t)
unfolding before_first
physical_lines-append [] t h = refl
physical_lines-append (b ∷ p) t h = rw (physical_lines-append p t h.1) (before_lines-ordinary (byte_kind b) b (before_first p (physical_lines t)) h.0)

before_first-line : (p l : List ℕ) (ls : List (List ℕ)) → before_first p (l ∷ ls) ≡ (p ++ l) ∷ ls
unfolding before_first
before_first-line [] l ls = refl
before_first-line (b ∷ p) l ls = rw (before_first-line p l ls) refl

before_first-none : (b : ℕ) (p : List ℕ) → before_first (b ∷ p) [] ≡ (b ∷ p) ∷ []
unfolding before_first
before_first-none b [] = refl
before_first-none b (c ∷ p) = rw (before_first-none c p) refl

-- two texts put in front of lines, one after the other
pub onto_first-twice : (m q : List ℕ) (ls : List (List ℕ)) → onto_first m (onto_first q ls) ≡ onto_first (m ++ q) ls
onto_first-twice m q [] = refl
onto_first-twice m q (l ∷ ls) = ap (λ x. x ∷ ls) (sym (append_assoc m q l))

-- a line begins only after a line feed
pub next-not_start : (s : LineState) (k : ByteKind) → (k ≡ LineFeed → ⊥) → is_at_start (next_line_state s k) ≡ false
next-not_start s LineFeed h = absurd (h refl)
next-not_start AfterOddRun CarriageReturn h = refl
next-not_start AtStart CarriageReturn h = refl
next-not_start InLine CarriageReturn h = refl
next-not_start AfterOddRunCr CarriageReturn h = refl
next-not_start AfterOddRun Backslash h = refl
next-not_start AtStart Backslash h = refl
next-not_start InLine Backslash h = refl
next-not_start AfterOddRunCr Backslash h = refl
next-not_start AfterOddRun Blank h = refl
next-not_start AtStart Blank h = refl
next-not_start InLine Blank h = refl
next-not_start AfterOddRunCr Blank h = refl
next-not_start AfterOddRun Ordinary h = refl
next-not_start AtStart Ordinary h = refl
next-not_start InLine Ordinary h = refl
next-not_start AfterOddRunCr Ordinary h = refl

line_state_after-not_start : (s : LineState) (p : List ℕ) → NoLineFeed p → is_at_start s ≡ false → is_at_start (line_state_after s p) ≡ false
line_state_after-not_start s [] h k = k
line_state_after-not_start s (b ∷ p) h k = line_state_after-not_start (next_line_state s (byte_kind b)) p h.1 (next-not_start s (byte_kind b) h.0)

-- what the groups are, by the state after the text before them
record IsGrouped (t : List ℕ) : Type 0 where
  pub fresh : grouped (physical_lines t) ≡ line_pieces AtStart t
  pub within : (m p : List ℕ) → NoLineFeed p → onto_first m (grouped (physical_lines (p ++ t))) ≡ (m ++ (p ++ line_continuation (line_state_after InLine p) t)) ∷ line_pieces (line_state_after InLine p) t

line_feed_or_not : (k : ByteKind) → (k ≡ LineFeed) ⊎ (k ≡ LineFeed → ⊥)
line_feed_or_not LineFeed = inl refl
line_feed_or_not CarriageReturn = inr (λ h. cc)
line_feed_or_not Backslash = inr (λ h. cc)
line_feed_or_not Blank = inr (λ h. cc)
line_feed_or_not Ordinary = inr (λ h. cc)

pub line_continuation-start : (t : List ℕ) → line_continuation AtStart t ≡ []
line_continuation-start [] = refl
line_continuation-start (x ∷ t) = refl

grouped-none : IsGrouped []
unfolding before_first
grouped-none = record { fresh = refl; within = within }
  where
    within : (m p : List ℕ) → NoLineFeed p → onto_first m (grouped (physical_lines (p ++ []))) ≡ (m ++ (p ++ [])) ∷ []
    within m [] h = rw (append-nil m) refl
    within m (b ∷ p) h = rw (physical_lines-append (b ∷ p) [] h, before_first-none b p, append-nil p) (go (is_continued (b ∷ p)))
      where
        go : (c : Bool) → onto_first m (before_group c (b ∷ p) []) ≡ (m ++ (b ∷ p)) ∷ []
        go true = refl
        go false = refl

grouped-line_feed : (b : ℕ) (t : List ℕ) → byte_kind b ≡ LineFeed → IsGrouped t → IsGrouped (b ∷ t)
grouped-line_feed b t e g = record { fresh = fresh; within = within }
  where
    fresh : grouped (physical_lines (b ∷ t)) ≡ line_pieces AtStart (b ∷ t)
    fresh = rw (e, is_continued-state [] b e, g.fresh, line_continuation-start t) refl

    by-offset : (s : LineState) (m p : List ℕ) → is_at_start s ≡ false
        → onto_first m (before_group (is_continued_state s) (p ++ b ∷ []) (grouped (physical_lines t))) ≡ (m ++ (p ++ line_continuation s (b ∷ t))) ∷ line_pieces s (b ∷ t)
    by-offset AtStart m p h = cc
    by-offset InLine m p h = rw (e, line_continuation-start t, g.fresh) refl
    by-offset AfterOddRun m p h = rw (e, onto_first-twice m (p ++ b ∷ []) (grouped (physical_lines t)), g.within (m ++ (p ++ b ∷ [])) [] tt) (simp append_assoc)
    by-offset AfterOddRunCr m p h = rw (e, onto_first-twice m (p ++ b ∷ []) (grouped (physical_lines t)), g.within (m ++ (p ++ b ∷ [])) [] tt) (simp append_assoc)

    within : (m p : List ℕ) → NoLineFeed p → onto_first m (grouped (physical_lines (p ++ b ∷ t))) ≡ (m ++ (p ++ line_continuation (line_state_after InLine p) (b ∷ t))) ∷ line_pieces (line_state_after InLine p) (b ∷ t)
    within m p h =
        rw (physical_lines-append p (b ∷ t) h)
        (let l : before_first p (before_lines (byte_kind b) b (physical_lines t)) ≡ (p ++ b ∷ []) ∷ physical_lines t = rw e (before_first-line p (b ∷ []) (physical_lines t)) in
        rw (l, is_continued-state p b e) (by-offset (line_state_after InLine p) m p (line_state_after-not_start InLine p h refl)))

-- each byte leads from the start of a line to the state to which it leads from within a line
pub next-start : (k : ByteKind) → next_line_state AtStart k ≡ next_line_state InLine k
next-start LineFeed = refl
next-start CarriageReturn = refl
next-start Backslash = refl
next-start Blank = refl
next-start Ordinary = refl

grouped-other : (b : ℕ) (t : List ℕ) → (byte_kind b ≡ LineFeed → ⊥) → IsGrouped t → IsGrouped (b ∷ t)
grouped-other b t e g = record { fresh = fresh; within = within }
  where
    bare : (ls : List (List ℕ)) (y : List ℕ) (z : List (List ℕ)) → onto_first [] ls ≡ (b ∷ y) ∷ z → ls ≡ (b ∷ y) ∷ z
    bare [] y z h = cc
    bare (l ∷ ls) y z h = h

    fresh : grouped (physical_lines (b ∷ t)) ≡ line_pieces AtStart (b ∷ t)
    fresh = rw (next-start (byte_kind b)) (bare (grouped (physical_lines (b ∷ t))) _ _ (g.within [] (b ∷ []) (e, tt)))

    step-in : (s : LineState) (m p : List ℕ) → is_at_start s ≡ false
        → (m ++ ((p ++ b ∷ []) ++ line_continuation (next_line_state s (byte_kind b)) t)) ∷ line_pieces (next_line_state s (byte_kind b)) t ≡ (m ++ (p ++ line_continuation s (b ∷ t))) ∷ line_pieces s (b ∷ t)
    step-in s m p h = rw (h, append_assoc p (b ∷ []) (line_continuation (next_line_state s (byte_kind b)) t)) refl

    within : (m p : List ℕ) → NoLineFeed p → onto_first m (grouped (physical_lines (p ++ b ∷ t))) ≡ (m ++ (p ++ line_continuation (line_state_after InLine p) (b ∷ t))) ∷ line_pieces (line_state_after InLine p) (b ∷ t)
    within m p h =
        rw (← append_assoc p (b ∷ []) t, g.within m (p ++ b ∷ []) (NoLineFeed-append p (b ∷ []) h (e, tt)), state_after-append line_step InLine p (b ∷ []))
        (step-in (line_state_after InLine p) m p (line_state_after-not_start InLine p h refl))

is_grouped : (t : List ℕ) → IsGrouped t
is_grouped [] = grouped-none
is_grouped (b ∷ t) = elim (line_feed_or_not (byte_kind b)) [ inl e ↦ grouped-line_feed b t e (is_grouped t) | inr e ↦ grouped-other b t e (is_grouped t) ]

-- the logical lines of a text are what the machine cuts
pub logical_lines-pieces : (t : List ℕ) → logical_lines t ≡ line_pieces AtStart t
logical_lines-pieces t = (is_grouped t).fresh

-- ---- the lines of a text, one physical line after the other

-- the logical lines of a text that begins with a physical line: this line, by itself or in one group with the next
pub logical_lines-line : (p : List ℕ) (b : ℕ) (t : List ℕ) → NoLineFeed p → byte_kind b ≡ LineFeed → logical_lines (p ++ b ∷ t) ≡ before_group (is_continued (p ++ b ∷ [])) (p ++ b ∷ []) (logical_lines t)
logical_lines-line p b t h e =
    ap grouped (physical_lines-append p (b ∷ t) h ∙ (ap (λ k. before_first p (before_lines k b (physical_lines t))) e ∙ before_first-line p (b ∷ []) (physical_lines t)))

-- the logical lines of a text without a line feed: the text itself, if it is not empty
pub logical_lines-last : (b : ℕ) (p : List ℕ) → NoLineFeed (b ∷ p) → logical_lines (b ∷ p) ≡ (b ∷ p) ∷ []
logical_lines-last b p h =
    ap logical_lines (sym (append-nil (b ∷ p))) ∙ (ap grouped (physical_lines-append (b ∷ p) [] h ∙ before_first-none b p) ∙ alone (is_continued (b ∷ p)))
  where
    alone : (c : Bool) → before_group c (b ∷ p) [] ≡ (b ∷ p) ∷ []
    alone true = refl
    alone false = refl
