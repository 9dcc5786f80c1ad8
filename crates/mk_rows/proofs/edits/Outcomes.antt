-- What the definitions say of an edit, told as one value, so that a row is one equation.
use Rattle.std.specs.Prelude.{ℕ, Bool, true, false, ◌&&◌, List, [], ◌∷◌, ◌++◌, map, length, Option, Some, None, Result, Ok, Err}
use Rattle.std.specs.Str.{bytes_eq}
use Rattle.mk_lines.specs.Pieces.{Replacement, replaced}
use Rattle.mk_class.specs.declared.assignment.Modifier.{Modifier}
use Rattle.mk_class.specs.declared.assignment.Modifier.TheVariants.{Override, Export, Private}
use Rattle.mk_class.specs.declared.rule.Separator.{Separator}
use Rattle.mk_class.specs.declared.rule.Separator.TheVariants.{SingleColon, DoubleColon, GroupedColon, GroupedDoubleColon}
use Rattle.mk_class.specs.OperatorTexts.{operator_text}
use Rattle.mk_tree.specs.Items.{Sets, Item}
use Rattle.mk_tree.specs.Items.Item.{Assign, TargetAssign, Header, Recipe, Endef, Body, Opaque, DefineHead, If, Else, Endif, Directive, Rough}
use Rattle.mk_tree.specs.Readings.{reading}
use Rattle.mk_edit_language.specs.Edits.{SetIf, ReplacePrereq, Edit, ChangeValue, ChangeLine, ChangePrereqs, SwitchLine, EachLine}
use Rattle.mk_edit_language.specs.Refusals.{spans}
use Rattle.mk_edit_language.specs.Costs.{cost, size}
use Rattle.mk_edit_language.specs.Changes.{change}
use Rattle.mk_edit_language.specs.declared.refusal.Refusal.{Refusal}
use Rattle.mk_edit_language.specs.declared.refusal.Refusal.TheVariants.{Misread}

-- bytes that replace those from an offset to another
abbrev pub span : (start end : ℕ) → (new : List ℕ) → Replacement
span s e n = record { start = s; end = e; new = n }

-- ---- items told by texts, so that two readings are compared byte by byte

abbrev modifier_number : Modifier → ℕ
modifier_number Override = 0
modifier_number Export = 1
modifier_number Private = 2

abbrev separator_number : Separator → ℕ
separator_number SingleColon = 0
separator_number DoubleColon = 1
separator_number GroupedColon = 2
separator_number GroupedDoubleColon = 3

abbrev inline_text : Option (List ℕ) → List ℕ
inline_text None = []
inline_text (Some t) = 1 ∷ t

-- what tells an item from each other: its kind as a number, and its parts
abbrev item_texts : Item → List (List ℕ)
item_texts (Assign (Sets m n f v)) = (0 ∷ []) ∷ map modifier_number m ∷ n ∷ operator_text f ∷ v ∷ []
item_texts (TargetAssign ts s (Sets m n f v)) = (1 ∷ separator_number s ∷ []) ∷ map modifier_number m ∷ n ∷ operator_text f ∷ v ∷ ts
item_texts (Header ts s p n o i) = (2 ∷ separator_number s ∷ length ts ∷ length p ∷ length n ∷ length o ∷ []) ∷ inline_text i ∷ (ts ++ (p ++ (n ++ o)))
item_texts (Recipe t) = (3 ∷ []) ∷ t ∷ []
item_texts (Endef t) = (4 ∷ []) ∷ t ∷ []
item_texts (Body t) = (5 ∷ []) ∷ t ∷ []
item_texts (Opaque t) = (6 ∷ []) ∷ t ∷ []
item_texts (DefineHead t) = (7 ∷ []) ∷ t ∷ []
item_texts (If t) = (8 ∷ []) ∷ t ∷ []
item_texts (Else t) = (9 ∷ []) ∷ t ∷ []
item_texts (Endif t) = (10 ∷ []) ∷ t ∷ []
item_texts (Directive t) = (11 ∷ []) ∷ t ∷ []
item_texts (Rough t) = (12 ∷ []) ∷ t ∷ []

abbrev are_same_texts : List (List ℕ) → List (List ℕ) → Bool
are_same_texts [] [] = true
are_same_texts (x ∷ xs) (y ∷ ys) = bytes_eq x y && are_same_texts xs ys
are_same_texts xs ys = false

abbrev pub is_same_reading : List Item → List Item → Bool
is_same_reading [] [] = true
is_same_reading (x ∷ xs) (y ∷ ys) = are_same_texts (item_texts x) (item_texts y) && is_same_reading xs ys
is_same_reading xs ys = false

-- whether the stated change of the reading is what a text reads as
abbrev reads_as_changed : (text : List ℕ) → Edit → (after : List ℕ) → Bool
reads_as_changed t e a = is_same_reading (change t e) (reading a)

-- ---- what the rows say

-- The text after an edit, or its refusal. `ReadsOtherwise` says that the stated change of the reading is not what the text after
-- the edit reads as, so no row is equal to it.
pub data Outcome : Type 0 where
  Becomes : (after : List ℕ) → Outcome
  Refused : Refusal → Outcome
  ReadsOtherwise : Outcome

abbrev pub becomes : (is_read_as_changed : Bool) → (after : List ℕ) → Outcome
becomes true a = Becomes a
becomes false a = ReadsOtherwise

abbrev outcome_by : (text : List ℕ) → Edit → Result (List Replacement) Refusal → Outcome
outcome_by t e (Ok rs) = becomes (reads_as_changed t e (replaced 0 t rs)) (replaced 0 t rs)
outcome_by t e (Err r) = Refused r

abbrev pub outcome : (text : List ℕ) → Edit → Outcome
outcome t e = outcome_by t e (spans t e)

-- The outcome with the measures of the edit: its cost (how many lines it reads again at most), and, if it is accepted, its size
-- (how many lines it takes out or replaces at most) and its spans. Some edits read their lines only where no other cause than
-- `Misread` holds: of the others the tables say that no line is read, and the definitions how many at most, so
-- the cost is left out.
pub data Account : Type 0 where
  Accepted : (cost size : ℕ) → (spans : List Replacement) → Outcome → Account
  NotMade : (cost : ℕ) → Refusal → Account
  NotTried : Refusal → Account

abbrev account_by : (text : List ℕ) → Edit → Result (List Replacement) Refusal → Account
account_by t e (Ok rs) = Accepted (cost t e) (size t e) rs (outcome_by t e (Ok rs))
account_by t (ChangeValue w n (SetIf o v)) (Err r) = NotTried r
account_by t (ChangePrereqs nth g (ReplacePrereq o n)) (Err Misread) = NotMade (cost t (ChangePrereqs nth g (ReplacePrereq o n))) Misread
account_by t (ChangePrereqs nth g (ReplacePrereq o n)) (Err r) = NotTried r
account_by t (SwitchLine s nth n) (Err Misread) = NotMade (cost t (SwitchLine s nth n)) Misread
account_by t (SwitchLine s nth n) (Err r) = NotTried r
account_by t (ChangeLine nth n c) (Err Misread) = NotMade (cost t (ChangeLine nth n c)) Misread
account_by t (ChangeLine nth n c) (Err r) = NotTried r
account_by t (EachLine e) (Err Misread) = NotMade (cost t (EachLine e)) Misread
account_by t (EachLine e) (Err r) = NotTried r
account_by t e (Err r) = NotMade (cost t e) r

abbrev pub account : (text : List ℕ) → Edit → Account
account t e = account_by t e (spans t e)
