-- Which line an edit means.
-- Told in docs/EDITS.md, "Addresses".
use Rattle.std.specs.Prelude.{ℕ, Bool, false, ◌&&◌, List, [], Option, Some, None}
use Rattle.std.specs.Str.{bytes_eq}
use Rattle.std.specs.List.{list_any}
use Rattle.mk_lines.specs.Cells.{Cell, joined_byte}
use Rattle.mk_class.specs.Texts.{is_one_of, unit_text, word_texts}
use Rattle.mk_class.specs.Classes.{Class}
use Rattle.mk_class.specs.Classes.Class.{Assign, TargetAssign, Header}
use Rattle.mk_class.specs.ClassedLines.{ClassedLine}
use Rattle.mk_tree.specs.LineTexts.{StandingLine}
use Rattle.mk_edit_language.specs.Edits.{Place, Top, Bottom, BeforeVar, AfterVar, AfterLastVar, BeforeRule, AfterRule, One, Every, OfAssign, OfRule, OfRecipe, Edit, ChangeValue, ChangeLine, ChangePrereqs, AddLine, AddRecipe, SetRecipe, RemoveLines, RenameTarget, ExchangeLines, EachEdit, ChangeEach, SubstRecipe, EachLine, ValueChange, SetIf, Switch, CommentOut, Uncomment, SwitchLine}
use Rattle.mk_edit_language.specs.Spots.{spots, only_last, picked}
use Rattle.mk_edit_language.specs.Comments.{says_name}

-- a variable by its name among the assignments, as the last of these, among those that have a value, or
-- among the comments that say it; or a rule by a target among the headers
pub data Address : Type 0 where
  Variable : (nth : Option ℕ) → (name : List ℕ) → Address
  LastVariable : (name : List ℕ) → Address
  Valued : (nth : Option ℕ) → (name value : List ℕ) → Address
  Commented : (nth : Option ℕ) → (name : List ℕ) → Address
  Rule : (nth : Option ℕ) → (target : List ℕ) → Address

-- whether a line of this class assigns the variable of this name
abbrev pub assigns : List ℕ → Class Cell → Bool
assigns n (Assign a p) = bytes_eq (unit_text joined_byte a.name) n
assigns n k = false

-- whether a line of this class is an assignment that has this value
abbrev pub has_value : List ℕ → Class Cell → Bool
has_value v (Assign a p) = bytes_eq (unit_text joined_byte a.value) v
has_value v k = false

-- whether a line of this class is the header of a rule for this target
abbrev pub is_rule_for : List ℕ → Class Cell → Bool
is_rule_for t (Header h) = is_one_of t (word_texts joined_byte h.targets)
is_rule_for t k = false

-- the lines that an address may mean
abbrev pub candidates : List ClassedLine → Address → List StandingLine
candidates ls (Variable nth n) = spots (λ l. assigns n l.class) ls
candidates ls (LastVariable n) = only_last (spots (λ l. assigns n l.class) ls)
candidates ls (Valued nth n v) = spots (λ l. assigns n l.class && has_value v l.class) ls
candidates ls (Commented nth n) = spots (says_name n) ls
candidates ls (Rule nth t) = spots (λ l. is_rule_for t l.class) ls

-- which of the candidates an address means: the nth, or the only one if no number is given
abbrev pub nth_meant : Address → Option ℕ
nth_meant (Variable nth n) = nth
nth_meant (LastVariable n) = None
nth_meant (Valued nth n v) = nth
nth_meant (Commented nth n) = nth
nth_meant (Rule nth t) = nth

-- the line that an address means
abbrev pub found : List ClassedLine → Address → Option StandingLine
found ls a = picked (nth_meant a) (candidates ls a)

-- the address of a place
abbrev pub place_address : Place → Option Address
place_address Top = None
place_address Bottom = None
place_address (BeforeVar nth n) = Some (Variable nth n)
place_address (AfterVar nth n) = Some (Variable nth n)
place_address (AfterLastVar n) = Some (LastVariable n)
place_address (BeforeRule nth t) = Some (Rule nth t)
place_address (AfterRule nth t) = Some (Rule nth t)

-- the address of a value that a change means: of one that is set in the place of another, among those
-- that are this one
abbrev pub value_address : (nth : Option ℕ) → (name : List ℕ) → ValueChange → Address
value_address nth n (SetIf o v) = Valued nth n o
value_address nth n c = Variable nth n

-- the address of a line that becomes a comment, or that was one
abbrev pub switch_address : Switch → (nth : Option ℕ) → (name : List ℕ) → Address
switch_address CommentOut nth n = Variable nth n
switch_address Uncomment nth n = Commented nth n

-- the address of an edit, or of its place; an edit of several lines has none, nor has one of whole
-- lines, which are found by what they say
abbrev pub address : Edit → Option Address
address (ChangeValue (One nth) n c) = Some (value_address nth n c)
address (ChangeValue Every n c) = None
address (ChangeLine nth n c) = Some (Variable nth n)
address (ChangePrereqs nth t c) = Some (Rule nth t)
address (AddLine p l) = place_address p
address (AddRecipe nth t p c) = Some (Rule nth t)
address (SetRecipe nth t w c) = Some (Rule nth t)
address (RemoveLines (OfAssign nth n)) = Some (Variable nth n)
address (RemoveLines (OfRule nth t)) = Some (Rule nth t)
address (RemoveLines (OfRecipe nth t w)) = Some (Rule nth t)
address (SwitchLine w nth n) = Some (switch_address w nth n)
address (RenameTarget o n) = None
address (ExchangeLines s ts) = None
address (EachLine e) = None

-- the address of the lines that an edit of several lines means: the assignments of a name, or the
-- rules for a target
abbrev pub each_address : EachEdit → Option Address
each_address (ChangeEach n c) = Some (Variable None n)
each_address (SubstRecipe nth t f r) = Some (Rule nth t)
each_address e = None

-- the targets of a header or of a target assignment
abbrev pub targets_of : Class Cell → List (List ℕ)
targets_of (Header h) = word_texts joined_byte h.targets
targets_of (TargetAssign a) = word_texts joined_byte a.targets
targets_of k = []

-- whether a word is a target of any header or target assignment
abbrev pub is_a_target : List ClassedLine → List ℕ → Bool
is_a_target ls w = list_any (λ l. is_one_of w (targets_of l.class)) ls
