-- Stretches of two texts, as the code finds them.
use Rattle.std.specs.Prelude.{◌≡◌, ℕ, suc, ◌+◌, ◌-◌, ◌<◌, ◌≤◌, ◌⊎◌, List, [], ◌∷◌, ◌++◌, map, take, drop, get_or, length}
use Rattle.std.specs.Borrow.{Bor}
use Rattle.mk_diff.specs.Hunks.{Change, Hunk, IsHunk}
use Rattle.mk_diff.specs.HunkTexts.{changes_text, signed_lines}
use Rattle.mk_diff.specs.declared.stretch.Stretch.{Stretch}
use Rattle.mk_diff.specs.declared.matching.Match.{Match}

-- the lines that some references show
abbrev pub shown : List (Bor (List ℕ)) → List (List ℕ)
shown ls = map (λ l. l.now) ls

-- the line at an index
abbrev pub line_at : ℕ → List (List ℕ) → List ℕ
line_at i ls = get_or ls i []

-- the lines from an index up to another
abbrev pub between : (start end : ℕ) → List (List ℕ) → List (List ℕ)
between start end ls = take (end - start) (drop start ls)

-- two texts differ at an index, or one of them ends there
abbrev pub DifferAt : ℕ → (old new : List (List ℕ)) → Type 0
DifferAt i old new = i < length old → i < length new → line_at i old ≡ line_at i new → ⊥

-- a line is none of a text
abbrev pub IsNotIn : List ℕ → List (List ℕ) → Type 0
IsNotIn l ls = (q : ℕ) → q < length ls → line_at q ls ≡ l → ⊥

-- none of the first lines of one text is among the first lines of the other
abbrev pub AreUnlike : (removed added : ℕ) → (old new : List (List ℕ)) → Type 0
AreUnlike removed added old new =
    (p q : ℕ) → p < removed → q < added → p < length old → q < length new
    → line_at p old ≡ line_at q new → ⊥

-- no line is in both texts
abbrev pub AreApart : (old new : List (List ℕ)) → Type 0
AreApart old new =
    (p q : ℕ) → p < length old → q < length new → line_at p old ≡ line_at q new → ⊥

-- a match: below it both texts agree in a line, and above it in none. Its place is not the front
-- of both.
pub record IsMatch (found : Match) (old new : List (List ℕ)) : Type 0 where
  pub old_within : found.removed < length old
  pub new_within : found.added < length new
  pub same : line_at found.removed old ≡ line_at found.added new
  pub unlike : AreUnlike found.removed found.added old new
  pub further : 0 < found.removed + found.added

-- ---- stretches in which two texts differ

module _ (old new : List (List ℕ)) where
  -- A stretch in which two texts differ: they are the same from one place of each up to it, and no
  -- line of it is in both texts.
  pub record IsStretch (i j : ℕ) (s : Stretch) : Type 0 where
    pub begins : i ≤ s.old_start
    pub old_order : s.old_start ≤ s.old_end
    pub old_within : s.old_end ≤ length old
    pub new_order : s.new_start ≤ s.new_end
    pub new_within : s.new_end ≤ length new
    pub even : s.old_start + j ≡ s.new_start + i
    pub some : s.old_start + s.new_start < s.old_end + s.new_end
    pub same : between i s.old_start old ≡ between j s.new_start new
    pub unlike : (p q : ℕ) → s.old_start ≤ p → p < s.old_end → s.new_start ≤ q → q < s.new_end
        → line_at p old ≡ line_at q new → ⊥

  -- From one place of each text up to another place, the texts differ in these stretches and are
  -- the same elsewhere. The first stretch begins at `floor` or below it, and between two stretches
  -- there is a line.
  abbrev pub Leads : (floor i j : ℕ) → List Stretch → (old_end new_end : ℕ) → Type 0
  Leads floor i j [] old_end new_end =
      (i ≤ old_end) × (old_end ≤ length old) × (new_end ≤ length new) × (old_end + j ≡ new_end + i)
      × (between i old_end old ≡ between j new_end new)
  Leads floor i j (s ∷ ss) old_end new_end =
      (floor ≤ s.old_start) × IsStretch i j s × Leads (suc s.old_end) s.old_end s.new_end ss old_end new_end

  -- the changes of stretches, the first of which has the lines from `at` on above it
  abbrev pub changes_of : (at : ℕ) → List Stretch → List Change
  changes_of at [] = []
  changes_of at (s ∷ ss) =
      record {
        above = between at s.old_start old;
        removed = between s.old_start s.old_end old;
        added = between s.new_start s.new_end new;
      }
      ∷ changes_of s.old_end ss

-- where the last stretch ends in the old text, and in the new one
abbrev pub last_old_end : ℕ → List Stretch → ℕ
last_old_end at [] = at
last_old_end at (s ∷ ss) = last_old_end s.old_end ss

abbrev pub last_new_end : ℕ → List Stretch → ℕ
last_new_end at [] = at
last_new_end at (s ∷ ss) = last_new_end s.new_end ss

-- where the first stretch begins in the old text, or the text ends
abbrev pub first_old_start : List Stretch → (end : ℕ) → ℕ
first_old_start [] end = end
first_old_start (s ∷ ss) end = s.old_start

-- below a place of the old text, at most six lines stand above each of these stretches
abbrev pub AreNear : (at : ℕ) → List Stretch → Type 0
AreNear at [] = Unit {0}
AreNear at (s ∷ ss) = (s.old_start ≤ at + 6) × AreNear s.old_end ss

-- the contexts of each two of these stretches meet
abbrev pub AreGroup : List Stretch → Type 0
AreGroup [] = Unit {0}
AreGroup (s ∷ ss) = AreNear s.old_end ss

-- the context of the first of some stretches, if there is one, does not meet that of what ends here
abbrev pub AreFar : (at : ℕ) → List Stretch → Type 0
AreFar at [] = Unit {0}
AreFar at (s ∷ ss) = at + 6 < s.old_start

-- the first stretch, if there is one, has its context below the place where the last hunk ends; or
-- there is no such hunk
abbrev pub IsRoomBelow : (at : ℕ) → List Stretch → Type 0
IsRoomBelow at [] = Unit {0}
IsRoomBelow at (s ∷ ss) = (at ≡ 0) ⊎ (at + 4 ≤ s.old_start)

-- the hunk that has the lines of a stretch, in which these stretches differ
abbrev pub hunk_of : (old new : List (List ℕ)) → Stretch → List Stretch → Hunk
hunk_of old new whole ss = record {
  old_start = whole.old_start;
  new_start = whole.new_start;
  changes = changes_of old new whole.old_start ss;
  below = between (last_old_end whole.old_start ss) whole.old_end old;
}

-- the text of the lines from `at` up to an end, in which these stretches differ
abbrev pub lines_text : (old new : List (List ℕ)) → (at : ℕ) → List Stretch → (end : ℕ) → List ℕ
lines_text old new at ss end =
    changes_text (changes_of old new at ss)
    ++ signed_lines 32 (between (last_old_end at ss) end old)

-- The stretch of a hunk with these changes: the texts are the same from one place of each up to it,
-- and the stretches in which they differ below it are these.
pub record IsHunkAt (old new : List (List ℕ)) (i j : ℕ) (whole : Stretch)
    (changed below : List Stretch) : Type 0 where
  pub reached : i ≤ whole.old_start
  pub even : whole.old_start + j ≡ whole.new_start + i
  pub same : between i whole.old_start old ≡ between j whole.new_start new
  pub inside : Leads old new 0 whole.old_start whole.new_start changed whole.old_end whole.new_end
  pub is_hunk : IsHunk (length old) (hunk_of old new whole changed)
  pub near : first_old_start changed 0 ≤ whole.old_start + 3
  pub room : 0 < length below → whole.old_end + 4 ≤ first_old_start below 0
  pub rest : Leads old new 0 whole.old_end whole.new_end below (length old) (length new)
