-- What is known of a document that is edited, and what a change of the document means for it.
-- Told in docs/ARCHITECTURE.md, "The index of a session".
use Rattle.std.specs.Prelude.{◌≡◌, ℕ, false, List, [], ◌∷◌, ◌++◌, Option, None, IfSome}
use Rattle.mk_lines.specs.Ranges.{text_at}
use Rattle.mk_class.specs.declared.assignment.Assignment as assignment
use Rattle.mk_class.specs.declared.class.Class.TheVariants as variants
use Rattle.mk_tree.specs.LocatedLines.{LocatedLine, text_of_line}
use Rattle.mk_tree.specs.UnreadPrefixes.{IsEndOf}
use Rattle.mk_tree.specs.declared.end.DocEnd.{DocEnd}
use Rattle.mk_edit_parts.specs.Candidates.{AreCandidates, Listed}
use Rattle.mk_index.specs.Indexes as indexes
use Rattle.mk_index.specs.Indexes.{IsIndexOf}
use Rattle.mk_index.specs.declared.effect.Effect.{Effect}
use Rattle.mk_index.specs.declared.effect.Effect.TheVariants.{Same, Appends, Other}

-- what is known of some lines: an index, and where they end; each may be unknown
pub record Known : Type 0 where
  pub index : Option indexes.Stored
  pub end : Option DocEnd

-- what is known is right for these lines
pub record IsKnownFor (ls : List LocatedLine) (known : Known) : Type 0 where
  pub index_is : IfSome known.index (IsIndexOf ls)
  pub end_is : IfSome known.end (IsEndOf ls)

-- a variable, and the lines that assign it
pub record NamedLines : Type 0 where
  pub name : List ℕ
  pub lines : Listed

-- they are those of some lines
abbrev pub AreNamedIn : List LocatedLine → NamedLines → Type 0
AreNamedIn ls n = AreCandidates n.name ls n.lines

-- no index is known that lists what lines say
abbrev pub ListsNoTexts : Known → Type 0
ListsNoTexts k = IfSome k.index (λ index. index.scope.lines ≡ false)

-- a change of the lines leaves right what is known of them, but for an index that lists what they say
pub record StaysRight (before after : List LocatedLine) : Type 0 where
  pub known : (k : Known) → ListsNoTexts k → IsKnownFor before k → IsKnownFor after k
  pub named : (n : NamedLines) → AreNamedIn before n → AreNamedIn after n

-- two lines assign the same variable, and neither sets the recipe prefix
pub record AssignSame (old new : LocatedLine) : Type 0 where
  pub old_parts : assignment.Assignment
  pub new_parts : assignment.Assignment
  pub old_is : old.class ≡ variants.Assign old_parts None
  pub new_is : new.class ≡ variants.Assign new_parts None
  pub name_is : text_at (text_of_line old) old_parts.name ≡ text_at (text_of_line new) new_parts.name

-- some lines, and one line more at their end
pub record IsOneMore (before after : List LocatedLine) : Type 0 where
  pub last : LocatedLine
  pub lines_are : after ≡ before ++ last ∷ []

-- the lines without the last end so
pub record IsBehind (ls : List LocatedLine) (end : DocEnd) : Type 0 where
  pub earlier : List LocatedLine
  pub one_more : IsOneMore earlier ls
  pub end_is : IsEndOf earlier end

-- What a change of the lines means for what is known of them: it stays right, unless it is an index that
-- lists what lines say; or one more line stands at the end; or nothing is said.
abbrev pub IsEffect : Effect → (before after : List LocatedLine) → Type 0
IsEffect Same b a = StaysRight b a
IsEffect Appends b a = IsOneMore b a
IsEffect Other b a = Unit {0}
