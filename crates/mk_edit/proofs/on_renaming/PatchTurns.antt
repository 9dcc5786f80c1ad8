-- The turn in which a line of a rename is exchanged: what it says of the line, and what the code counts for it.
use Rattle.std.proofs.Common.{◌≡◌, sym, ap, ◌∙◌, subst, arith, ℕ, zero, suc, ◌+◌, ◌-◌, ◌*◌, ◌^◌, ◌<◌, ◌≤◌, Bool, true, false, not, List, length, Some, None}
use Rattle.std.specs.Prelude.{nat_lt, if◌then◌else◌}
use Rattle.std.proofs.lemmas.Bool.{and_parts, lt-ltb, ltb-true, ltb-false, not-true}
use Rattle.mk_class.specs.Contexts.{Context}
use Rattle.mk_tree.specs.Counting.{AreCounted}
use Rattle.mk_tree.specs.LocatedLines.{LocatedLine}
use Rattle.mk_edit_parts.specs.RenamedRanges.{bytes_in, no_words, renamed_ranges, tallied}
use Rattle.mk_edit_parts.specs.RenamedTexts.{renamed_text}
use Rattle.mk_edit.specs.RenameTargetPatches.{holds_word, is_turn_of, is_exchanged, CanBeRenamed}
use Rattle.mk_edit.specs.declared.rename_target_effect.Turn.{Turn}
use Rattle.mk_edit.specs.declared.rename_target_effect.Turn.TheVariants as turn
use Rattle.mk_edit_parts.specs.declared.tally.Tally.{Tally}
use Rattle.mk_edit_parts.proofs.on_renaming.WrittenLemmas.{apart-bytes}
use Rattle.mk_edit.proofs.on_renaming.LinesRenamed.{renamed-length}

-- ---- by numbers

some-words : (w b n : ℕ) → b < w * n → 0 < w
some-words zero b n h = absurd (omega (arith, h))
some-words (suc w) b n h = omega arith

-- a line that is exchanged has words to replace
turn-words : (t : Turn) (w b n : ℕ) → is_turn_of t w b n ≡ true → nat_lt 0 w ≡ true
turn-words turn.NoLonger w b n h = (and_parts (nat_lt 0 w) (not (nat_lt b (w * n))) h).0
turn-words turn.Longer w b n h = lt-ltb 0 w (some-words w b n (ltb-true b (w * n) h))

no-longer : (w b n : ℕ) → is_turn_of turn.NoLonger w b n ≡ true → w * n ≤ b
no-longer w b n h = ltb-false b (w * n) (not-true (nat_lt b (w * n)) (and_parts (nat_lt 0 w) (not (nat_lt b (w * n))) h).1)

longer : (w b n : ℕ) → is_turn_of turn.Longer w b n ≡ true → b < w * n
longer w b n h = ltb-true b (w * n) h

-- ---- by lines

pub exchanged-holds : (t : Turn) (o n : List ℕ) (l : LocatedLine) → is_exchanged t o n l ≡ true → holds_word o l ≡ true
exchanged-holds t o n l h = turn-words t (length (renamed_ranges o l)) (bytes_in (renamed_ranges o l)) (length n) h

pub exchanged-no_longer : (o n : List ℕ) (c : Context) (l : LocatedLine) → CanBeRenamed o n c l → is_exchanged turn.NoLonger o n l ≡ true → length (renamed_text o n l) ≤ length l.bytes
exchanged-no_longer o n c l C h =
    omega (arith, renamed-length o n l C.apart, no-longer (length (renamed_ranges o l)) (bytes_in (renamed_ranges o l)) (length n) h)

pub exchanged-longer : (o n : List ℕ) (c : Context) (l : LocatedLine) → CanBeRenamed o n c l → is_exchanged turn.Longer o n l ≡ true → length l.bytes ≤ length (renamed_text o n l)
exchanged-longer o n c l C h =
    omega (arith, renamed-length o n l C.apart, longer (length (renamed_ranges o l)) (bytes_in (renamed_ranges o l)) (length n) h)

-- ---- what the code counts

-- The words of a line, as they are counted, have room, and tell the turn.
pub record IsCounted (o n : List ℕ) (l : LocatedLine) (t : Tally) : Type 0 where
  pub product : t.words * length n < 2 ^ 64
  pub taken : t.bytes ≤ length l.bytes
  pub few_bytes : t.bytes ≤ 2 ^ 32
  pub room : length l.bytes - t.bytes + t.words * length n < 2 ^ 64
  pub turn : (r : Turn) → is_turn_of r t.words t.bytes (length n) ≡ is_exchanged r o n l

pub words-counted : (o n : List ℕ) (c : Context) (l : LocatedLine) (t : Tally) → CanBeRenamed o n c l → t ≡ tallied no_words (renamed_ranges o l) → IsCounted o n l t
words-counted o n c l t C e =
    let ss = renamed_ranges o l in
    let w : t.words ≡ length ss = ap (λ (z : Tally). z.words) e ∙ plus (length ss) in
    let b : t.bytes ≡ bytes_in ss = ap (λ (z : Tally). z.bytes) e ∙ plus (bytes_in ss) in
    let k : t.words * length n ≡ length ss * length n = ap (λ z. z * length n) w in
    let r = renamed-length o n l C.apart in
    record {
      product = omega (arith, k, r, C.fits, C.words.few_bytes);
      taken = omega (arith, b, apart-bytes 0 (length l.bytes) ss C.apart);
      few_bytes = omega (arith, b, C.words.few_bytes);
      room = omega (arith, k, b, r, C.fits, apart-bytes 0 (length l.bytes) ss C.apart);
      turn = λ q. ap (λ z. is_turn_of q z t.bytes (length n)) w ∙ ap (λ z. is_turn_of q (length ss) z (length n)) b;
    }
  where
    plus : (m : ℕ) → 0 + m ≡ m
    plus m = omega arith

-- ---- what it answers

pub exchanged-some : (b : Bool) (x y : LocatedLine) → b ≡ true → x ≡ y → Some x ≡ (if b then Some y else None)
exchanged-some b x y h e = ap Some e ∙ ap (λ z. if z then Some y else None) (sym h)

pub exchanged-one : (b : Bool) (new old : ℕ) → b ≡ true → new ≤ old + 1 → new ≤ old + (if b then 1 else 0)
exchanged-one b new old h k = subst (λ z. new ≤ old + (if z then 1 else 0)) (sym h) k

-- how many lines are counted for a line that is exchanged, and for one that is not
pub exchanged-counted : (b : Bool) (new old : ℕ) → b ≡ true → AreCounted old 1 new → AreCounted old (if b then 1 else 0) new
exchanged-counted b new old h k = subst (λ z. AreCounted old (if z then 1 else 0) new) (sym h) k

pub left-counted : (b : Bool) (m : ℕ) → b ≡ false → AreCounted m (if b then 1 else 0) m
left-counted b m h = subst (λ z. AreCounted m (if z then 1 else 0) m) (sym h) (omega arith)
