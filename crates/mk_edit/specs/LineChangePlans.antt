-- The line of an assignment that is changed and checked by reading.
-- Told in docs/ARCHITECTURE.md, "An edit's way, from Edit to moved lines".
use Rattle.std.specs.Prelude.{◌≡◌, ◌⊎◌, ℕ, ◌+◌, ◌≤◌, ◌==◌, ◌&&◌, nat_lt, if◌then◌else◌, Bool, true, false, List, [], ◌∷◌, drop, length, Option, None, Some, Result, IfOk, IfErr, OnOk}
use Rattle.std.specs.Str.{bytes_eq}
use Rattle.mk_lines.specs.Cells.{Cell, joined_byte}
use Rattle.mk_lines.specs.Ranges.{text_at}
use Rattle.mk_lines.specs.Words.{words_in}
use Rattle.mk_lines.specs.declared.split.Span.{Span}
use Rattle.mk_class.specs.Assignments.{Assignment}
use Rattle.mk_class.specs.Classes.Class.{Assign}
use Rattle.mk_class.specs.ClassTable.{class_of}
use Rattle.mk_class.specs.Contexts.{Context}
use Rattle.mk_class.specs.LocatedClasses.{located_class}
use Rattle.mk_class.specs.OperatorTexts.{operator_text}
use Rattle.mk_class.specs.RecipePrefix.{is_prefix_name}
use Rattle.mk_class.specs.Texts.{is_one_of, unit_text}
use Rattle.mk_class.specs.declared.assignment.Assignment as assignment
use Rattle.mk_class.specs.declared.assignment.Flavor.{Flavor}
use Rattle.mk_tree.specs.Items.{Assigned, Sets}
use Rattle.mk_tree.specs.Counting.{AreCounted}
use Rattle.mk_tree.specs.LineTexts.{line_in}
use Rattle.mk_tree.specs.LocatedLines.{LocatedLine, located_line}
use Rattle.mk_tree.specs.Views.{AssignmentView}
use Rattle.mk_edit_language.specs.Causes.{where_holds}
use Rattle.mk_edit_language.specs.Edits.{LineChange, InsertWord, Substitute, SetOperator, Edit, ChangeLine}
use Rattle.mk_edit_language.specs.EachLine.{EachChange, MarkedLine, each_bytes, is_change_misread}
use Rattle.mk_edit_language.specs.LineChanges.{line_after, stated, value_after, reads_as}
use Rattle.mk_edit_language.specs.declared.refusal.Refusal.{Refusal}
use Rattle.mk_edit_parts.specs.RenamedRanges.{span}
use Rattle.mk_edit_parts.specs.RenamedTexts.{AreApart, rewritten}
use Rattle.mk_edit_language.specs.declared.refusal.Refusal.TheVariants.{Absent, Already, Ambiguous, Misread, NoMemory}

-- an edit makes this change of a line, which is checked by reading
pub record IsLineChange (c : LineChange) (e : Edit) : Type 0 where
  pub nth : Option ℕ
  pub name : List ℕ
  pub is : e ≡ ChangeLine nth name c

-- a line that stands in this context is that of this assignment, which sets no recipe prefix
pub record IsAssignmentIn (context : Context) (l : LocatedLine) (a : Assignment Cell) : Type 0 where
  pub here : class_of context l.bytes ≡ Assign a None
  pub class_is : l.class ≡ located_class joined_byte (Assign a None)

-- a line that stands in this context is that of an assignment to another name than the prefix's, so
-- that it sets none whatever its value and its flavor become
pub record IsAssigning (context : Context) (l : LocatedLine) : Type 0 where
  pub assigned : Assignment Cell
  pub is : IsAssignmentIn context l assigned
  pub free : is_prefix_name (unit_text joined_byte assigned.name) ≡ false

-- what a change that finds so many places decides by the words of the value
abbrev pub not_inserted_in : LineChange → (count : ℕ) → (value : List ℕ) → Option Refusal
not_inserted_in (InsertWord i w n) k v =
    if is_one_of n (words_in v) then Some Already else where_holds (nat_lt 1 k) (Ambiguous k)
not_inserted_in c k v = None

-- The first cause of refusal by the places that are found in a value, but for the text's length.
abbrev pub first_of_words : LineChange → (count : ℕ) → (value : List ℕ) → Option Refusal
first_of_words c k v = if k == 0 then Some Absent else not_inserted_in c k v

-- the new line, and the value that it is to be read with
pub record IsMadeOf (c : LineChange) (context : Context) (l : LocatedLine) (bytes value : List ℕ)
    : Type 0 where
  pub bytes_are : (a : Assignment Cell) → IsAssignmentIn context l a → bytes ≡ line_after c l.bytes a
  pub value_is : (a : Assignment Cell) → IsAssignmentIn context l a → value ≡ value_after c a.value

-- an assignment with another flavor and another value
abbrev pub with_parts : Assignment Cell → Flavor → (value : List ℕ) → Assigned
with_parts a f v = Sets a.modifiers (unit_text joined_byte a.name) f v

-- Whether a new line of these bytes, in the place of a line of an assignment, is read as the
-- assignment with this flavor and this value.
abbrev pub Reads : Bool → Context → LocatedLine → (bytes : List ℕ) → Flavor → (value : List ℕ)
    → Type 0
Reads b x l m f v =
    (a : Assignment Cell) → IsAssignmentIn x l a → reads_as (with_parts a f v) (class_of x m) ≡ b

-- ---- the line after the change

-- a line in its context, as one that an edit means
abbrev pub meant_in : Context → (line : List ℕ) → MarkedLine
meant_in x l = record { line = line_in x l; is_meant = true }

-- the line after a change, with its class in the context of the line before
abbrev pub line_changed : EachChange → Context → (line : List ℕ) → LocatedLine
line_changed c x l = located_line (line_in x (each_bytes c (meant_in x l)))

-- whether it does not read as stated
abbrev pub is_changed_misread : EachChange → Context → (line : List ℕ) → Bool
is_changed_misread c x l = is_change_misread c x (line_in x l)

-- The answer of a call that makes lines and reads each, if none is misread. It reads `lines` lines
-- anew, or at most that many if it is refused.
pub record AreRead {A : Type 0} (lines : ℕ) (is_misread : Bool) (read_before read_after : ℕ)
    (result : Result A Refusal) : Type 0 where
  pub told : IfOk result (λ _. is_misread ≡ false)
  pub refused : IfErr result (λ r. (r ≡ NoMemory) ⊎ ((r ≡ Misread) × (is_misread ≡ true)))
  pub counted : OnOk result (AreCounted read_before lines read_after)
  pub few_read : read_after ≤ read_before + lines
  pub forward : read_before ≤ read_after

-- the text that is looked for is not empty
abbrev pub IsSought : LineChange → Type 0
IsSought (Substitute f v) = 1 ≤ length f
IsSought c = Unit {0}

-- whether it is the operator that is changed
abbrev pub is_operator : LineChange → Bool
is_operator (SetOperator o) = true
is_operator c = false

-- the value that a line is said to have, by its joined text, the offsets of its parts, and the ranges
-- that get a new text
abbrev pub value_made : LineChange → (text : List ℕ) → assignment.Assignment → List Span
    → (new : List ℕ) → List ℕ
value_made c t at ss n =
    if is_operator c
    then text_at t at.value
    else stated c (drop at.value.start (rewritten (text_at t (span 0 at.value.end)) n ss))

-- such a value can be made
pub record CanRewrite (c : LineChange) (t : List ℕ) (at : assignment.Assignment) (ss : List Span)
    (n : List ℕ)
    : Type 0 where
  pub rises : at.value.start ≤ at.value.end
  pub within : at.value.end ≤ length t
  pub apart : AreApart 0 at.value.end ss
  pub begins : is_operator c ≡ false
      → at.value.start ≤ length (rewritten (text_at t (span 0 at.value.end)) n ss)

-- whether two lists of texts are the same
abbrev pub are_same_texts : List (List ℕ) → List (List ℕ) → Bool
are_same_texts [] [] = true
are_same_texts [] (y ∷ ys) = false
are_same_texts (x ∷ xs) [] = false
are_same_texts (x ∷ xs) (y ∷ ys) = bytes_eq x y && are_same_texts xs ys

-- Whether a new line shows the assignment of an old one, with this flavor and this value: the words
-- before the name, and the name, are the same.
abbrev pub is_read_as : (old new : Option AssignmentView) → Flavor → (value : List ℕ) → Bool
is_read_as (Some o) (Some n) f v =
    are_same_texts o.modifiers n.modifiers
    && (bytes_eq o.name n.name
    && (bytes_eq (operator_text n.flavor) (operator_text f) && bytes_eq n.value v))
is_read_as o n f v = false
