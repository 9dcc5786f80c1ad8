-- Hunks, and what it means that they lead from one text to another. A text is the list of its
-- physical lines, each with its line end.
-- Told in docs/EDITS.md, "Running a script".
use Rattle.std.specs.Prelude.{◌≡◌, ℕ, suc, ◌+◌, ◌-◌, ◌<◌, ◌≤◌, Bool, true, not, ◌&&◌, nat_le, if◌then◌else◌, List, [], ◌∷◌, ◌++◌, map, take, drop, length, Option, Some, None}
use Rattle.std.specs.Str.{bytes_eq}
use Rattle.mk_lines.specs.Lists.{Each}

-- kept lines, and directly below them lines that are removed, and lines that are added in their
-- place
pub record Change : Type 0 where
  pub above : List (List ℕ)
  pub removed : List (List ℕ)
  pub added : List (List ℕ)

-- changes, one below the other, and kept lines below the last one. So many lines of the old text
-- stand above them, and so many of the new text.
pub record Hunk : Type 0 where
  pub old_start : ℕ
  pub new_start : ℕ
  pub changes : List Change
  pub below : List (List ℕ)

-- ---- what a hunk takes and gives

-- the lines of changes in the old text
abbrev pub old_of : List Change → List (List ℕ)
old_of [] = []
old_of (c ∷ cs) = c.above ++ (c.removed ++ old_of cs)

-- the lines of changes in the new text
abbrev pub new_of : List Change → List (List ℕ)
new_of [] = []
new_of (c ∷ cs) = c.above ++ (c.added ++ new_of cs)

-- the lines of a hunk in the old text
abbrev pub old_lines : Hunk → List (List ℕ)
old_lines h = old_of h.changes ++ h.below

-- the lines of a hunk in the new text
abbrev pub new_lines : Hunk → List (List ℕ)
new_lines h = new_of h.changes ++ h.below

-- ---- hunks applied

-- what follows some lines, if the text begins with them
abbrev pub after : (front text : List (List ℕ)) → Option (List (List ℕ))
after [] ls = Some ls
after (f ∷ fs) [] = None
after (f ∷ fs) (l ∷ ls) = if bytes_eq f l then after fs ls else None

-- lines before a text, if there is one
abbrev pub before : List (List ℕ) → Option (List (List ℕ)) → Option (List (List ℕ))
before ls None = None
before ls (Some text) = Some (ls ++ text)

-- what is made of a text, if there is one
abbrev pub of_text : Option (List (List ℕ)) → (List (List ℕ) → Option (List (List ℕ)))
    → Option (List (List ℕ))
of_text None make = None
of_text (Some text) make = make text

-- whether so many lines stand above a hunk that begins below `start` lines, where `passed` lines
-- are passed and these lines of the text are not
abbrev pub is_reached : (passed start : ℕ) → (text : List (List ℕ)) → Bool
is_reached passed start text = nat_le passed start && nat_le (start - passed) (length text)

-- The lines of a text after hunks were applied, from one on above which there are `passed` lines.
-- The lines up to a hunk stay. Its old lines have to stand there, and its new lines take their
-- place. None if a hunk does not fit.
abbrev pub applied : (passed : ℕ) → List Hunk → (text : List (List ℕ)) → Option (List (List ℕ))
applied passed [] text = Some text
applied passed (h ∷ hs) text =
    if is_reached passed h.old_start text
    then of_text (after (old_lines h) (drop (h.old_start - passed) text)) (λ rest.
    before (take (h.old_start - passed) text ++ new_lines h)
    (applied (h.old_start + length (old_lines h)) hs rest))
    else None

-- a change that takes a change back
abbrev pub turned_change : Change → Change
turned_change c = record { above = c.above; removed = c.added; added = c.removed }

-- a hunk that takes a hunk back
abbrev pub turned : Hunk → Hunk
turned h = record {
  old_start = h.new_start;
  new_start = h.old_start;
  changes = map turned_change h.changes;
  below = h.below;
}

-- ---- what a hunk may have

-- whether a line is none of these
abbrev pub is_not_in : List (List ℕ) → List ℕ → Bool
is_not_in [] l = true
is_not_in (m ∷ ms) l = not (bytes_eq l m) && is_not_in ms l

-- no line is removed and added by a change, which removes or adds a line
abbrev IsChange : Change → Type 0
IsChange c = Each (is_not_in c.added) c.removed × (0 < length c.removed + length c.added)

abbrev pub AreChanges : List Change → Type 0
AreChanges [] = Unit {0}
AreChanges (c ∷ cs) = IsChange c × AreChanges cs

-- so many lines of context, where so many lines are beyond them: three lines, or fewer if none is
-- beyond
abbrev IsContext : (count beyond : ℕ) → Type 0
IsContext count beyond = (count ≤ 3) × (0 < beyond → count ≡ 3)

-- the changes below the first of a hunk: one line to six lines stand above each
abbrev pub AreJoined : List Change → Type 0
AreJoined [] = Unit {0}
AreJoined (c ∷ cs) = (0 < length c.above) × (length c.above ≤ 6) × AreJoined cs

-- the changes of a hunk that so many lines of the old text stand above: at least one
abbrev AreInContext : (start : ℕ) → List Change → Type 0
AreInContext start [] = ⊥
AreInContext start (c ∷ cs) = IsContext (length c.above) start × AreJoined cs

-- a hunk in an old text of so many lines
abbrev pub IsHunk : (total : ℕ) → Hunk → Type 0
IsHunk total h =
    AreChanges h.changes × AreInContext h.old_start h.changes
    × IsContext (length h.below) (total - (h.old_start + length (old_lines h)))

-- hunks in an old text of so many lines, the first below `floor` lines. Between two of them there
-- is a line.
abbrev pub AreHunks : (floor total : ℕ) → List Hunk → Type 0
AreHunks floor total [] = Unit {0}
AreHunks floor total (h ∷ hs) =
    (floor ≤ h.old_start) × IsHunk total h
    × AreHunks (suc (h.old_start + length (old_lines h))) total hs

-- The hunks lead from the old lines to the new ones, and turned they lead back. Each has its
-- context, and no line is removed and added by one of their changes.
pub record IsDiff (old new : List (List ℕ)) (hunks : List Hunk) : Type 0 where
  pub applies : applied 0 hunks old ≡ Some new
  pub turns : applied 0 (map turned hunks) new ≡ Some old
  pub stand : AreHunks 0 (length old) hunks
