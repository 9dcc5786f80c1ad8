-- What a change of a value does to the line of one assignment, as a document shows the line.
-- Told in docs/ARCHITECTURE.md, "An edit's way, from Edit to moved lines".
use Rattle.std.specs.Prelude.{◌≡◌, ℕ, ◌+◌, ◌-◌, ◌==◌, ◌&&◌, ◌||◌, not, nat_lt, if◌then◌else◌, Bool, true, false, List, [], ◌∷◌, ◌++◌, take, drop, length, Option, Some, None}
use Rattle.std.specs.Str.{bytes_eq}
use Rattle.mk_lines.specs.Cells.{joined_byte, Cell}
use Rattle.mk_lines.specs.Pieces.{replaced}
use Rattle.mk_lines.specs.Ranges.{text_at}
use Rattle.mk_lines.specs.Units.{is_closed}
use Rattle.mk_lines.specs.Words.{words_in}
use Rattle.mk_class.specs.ListTests.{is_empty}
use Rattle.mk_class.specs.Texts.{is_one_of}
use Rattle.mk_class.specs.Assignments.{Assignment}
use Rattle.mk_class.specs.Classes.Class.{Assign}
use Rattle.mk_class.specs.ClassTable.{class_of}
use Rattle.mk_class.specs.Contexts.{Context}
use Rattle.mk_class.specs.LocatedClasses.{located_class}
use Rattle.mk_class.specs.declared.class.Class as class
use Rattle.mk_class.specs.declared.class.Class.TheVariants as variants
use Rattle.mk_tree.specs.LocatedLines.{LocatedLine, text_of_line}
use Rattle.mk_edit_language.specs.Edits.{One, ValueChange, Set, SetIf, Append, Add, Remove, Edit, ChangeValue}
use Rattle.mk_edit_language.specs.LineCauses.{bares_end_among, is_open_to}
use Rattle.mk_edit_language.specs.ValueChanges.{change_spans, assignment_spans}
use Rattle.mk_edit_parts.specs.LineRanges.{ends_in_fold_located, value_range_located}
use Rattle.mk_edit_parts.specs.LocatedParts.{assigns_located}
use Rattle.mk_edit.specs.declared.value_change.Change.{Change}
use Rattle.mk_edit.specs.declared.value_change.Change.TheVariants as seen

-- a change; its text is seen as bytes
abbrev pub change_view : Change → ValueChange
change_view (seen.Set value) = Set value.now
change_view (seen.SetIf old value) = SetIf old.now value.now
change_view (seen.Append text) = Append text.now
change_view (seen.Add word) = Add word.now
change_view (seen.Remove word) = Remove word.now

-- an edit changes the value of one assignment so
pub record IsChangeOfOne (c : ValueChange) (e : Edit) : Type 0 where
  pub nth : Option ℕ
  pub name : List ℕ
  pub is : e ≡ ChangeValue (One nth) name c

-- ---- the line of an assignment

-- the text of the value of an assignment's line of this joined text and class; the empty text for
-- any other line
abbrev value_text_in : (text : List ℕ) → class.Class → List ℕ
value_text_in t (variants.Assign at p) = text_at t at.value
value_text_in t k = []

abbrev pub value_text_located : LocatedLine → List ℕ
value_text_located l = value_text_in (text_of_line l) l.class

-- what stands between a value and a text that is put after it: a space, or nothing if the value is
-- empty
abbrev pub space_after : (value : List ℕ) → List ℕ
space_after v = if is_empty v then [] else 32 ∷ []

-- whether the change does something to the value of an assignment's line
abbrev pub has_effect_located : ValueChange → LocatedLine → Bool
has_effect_located (Set v) l = true
has_effect_located (SetIf o v) l = bytes_eq (value_text_located l) o
has_effect_located (Append v) l = true
has_effect_located (Add w) l = not (is_one_of w (words_in (value_text_located l)))
has_effect_located (Remove w) l = is_one_of w (words_in (value_text_located l))

-- whether the change changes a line: it assigns the name, and the change does something to its value
abbrev pub is_changed_located : (name : List ℕ) → ValueChange → LocatedLine → Bool
is_changed_located n c l = assigns_located n l && has_effect_located c l

-- whether the change would be refused for the value of an assignment's line
abbrev pub is_open_located : ValueChange → LocatedLine → Bool
is_open_located (Set v) l = false
is_open_located (SetIf o v) l = false
is_open_located (Append v) l = not (is_closed (λ b. b) (value_text_located l))
is_open_located (Add w) l =
    not (is_closed (λ b. b) (value_text_located l)) || ends_in_fold_located l
is_open_located (Remove w) l =
    not (is_closed (λ b. b) (value_text_located l))
    || bares_end_among w (words_in (value_text_located l))

-- how many bytes the change puts into each line that it changes, with a space before a text that is
-- put after a value
abbrev pub put_by : ValueChange → ℕ
put_by (Set v) = length v
put_by (SetIf o v) = length v
put_by (Append v) = length v + 1
put_by (Add w) = length w + 1
put_by (Remove w) = 0

-- how many bytes of the line a value replaces
abbrev replaced_by : (value : List ℕ) → LocatedLine → ℕ
replaced_by v l =
    (value_range_located (length v == 0) l).end - (value_range_located (length v == 0) l).start

-- how many of these bytes do not make the line longer: the bytes of the value that is replaced, or
-- the space, if the value is empty. A word that is taken out makes no line longer, and is not counted.
abbrev pub spared_by : ValueChange → LocatedLine → ℕ
spared_by (Set v) l = replaced_by v l
spared_by (SetIf o v) l = replaced_by v l
spared_by (Append v) l = if length (value_text_located l) == 0 then 1 else 0
spared_by (Add w) l = if length (value_text_located l) == 0 then 1 else 0
spared_by (Remove w) l = 0

-- whether a line that the change changes gets longer; if it does not, it gets no longer
abbrev pub is_longer : ValueChange → LocatedLine → Bool
is_longer (Set v) l = nat_lt (replaced_by v l) (length v)
is_longer (SetIf o v) l = nat_lt (replaced_by v l) (length v)
is_longer (Append v) l = true
is_longer (Add w) l = true
is_longer (Remove w) l = false

-- A line that stands in this context assigns a variable, does not set the recipe prefix, and its value
-- is not open to the change.
pub record IsOwnLine (c : ValueChange) (context : Context) (l : LocatedLine) : Type 0 where
  pub assigned : Assignment Cell
  pub here : class_of context l.bytes ≡ Assign assigned None
  pub class_is : l.class ≡ located_class joined_byte (Assign assigned None)
  pub not_open : is_open_to c (Some (Assign assigned None)) ≡ false

-- the bytes of a line that the change changes: the line, which stands in this context, with the spans
-- in it replaced
abbrev pub bytes_changed : ValueChange → Context → LocatedLine → List ℕ
bytes_changed c x l =
    replaced 0 l.bytes (assignment_spans (change_spans c) 0 (class_of x l.bytes))

-- the bytes of an assignment's line with a text after its value, and a space before it unless the
-- value is empty
abbrev pub bytes_put : (text : List ℕ) → LocatedLine → List ℕ
bytes_put v l =
    take (value_range_located false l).end l.bytes
    ++ ((space_after (value_text_located l) ++ v) ++ drop (value_range_located false l).end l.bytes)
