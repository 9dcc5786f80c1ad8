-- The lines of a document that no call has touched since they were read: they stand in the text
-- that they were read from, at its front or at its end.
-- Told in docs/ARCHITECTURE.md, "The document".
use Rattle.std.specs.Prelude.{◌≡◌, ℕ, ◌-◌, ◌≤◌, List, [], ◌++◌, length, take, drop, option_map, unwrap_or}
use Rattle.std.specs.Rc.{rc_slice_items}
use Rattle.mk_tree.specs.declared.origin.Origin.{Origin}
use Rattle.mk_tree.specs.LocatedLines.{LocatedLine, located_text}

-- the text that a document was read from, or no bytes if it was read from none
abbrev pub origin_text : {A : _} → Origin A → List ℕ
origin_text o = unwrap_or (option_map rc_slice_items o.text) []

-- a text begins with the text of some lines
abbrev pub BeginsWith : (text : List ℕ) → List LocatedLine → Type 0
BeginsWith text ls = (rest : List ℕ) × (text ≡ located_text ls ++ rest)

-- a text ends with the text of some lines
abbrev pub EndsWith : (text : List ℕ) → List LocatedLine → Type 0
EndsWith text ls = (before : List ℕ) × (text ≡ before ++ located_text ls)

-- the lines from an index on: as many as `count` says
abbrev pub lines_between : (from count : ℕ) → List LocatedLine → List LocatedLine
lines_between from count ls = take count (drop from ls)

-- some of the first lines of a document, and some of the last, stand in a text as they were read
pub record AreUntouched (text : List ℕ) (first last : ℕ) (ls : List LocatedLine) : Type 0 where
  pub few_first : first ≤ length ls
  pub few_last : last ≤ length ls
  pub front : BeginsWith text (take first ls)
  pub end : EndsWith text (drop (length ls - last) ls)
