-- The causes that the lines around a change decide, or the size of the result: OpenValue, OpenLine,
-- OpenDefine, Leans and TooLong; and Misread, which the new line decides.
-- Told in docs/EDITS.md, "Refusals".
use Rattle.std.specs.Prelude.{ℕ, Bool, false, not, ◌&&◌, ◌||◌, nat_lt, List, [], ◌∷◌, ◌++◌, length, Option, Some, None}
use Rattle.std.specs.List.{list_any}
use Rattle.std.specs.Str.{bytes_eq}
use Rattle.mk_lines.specs.Limits.{max_text}
use Rattle.mk_lines.specs.Lists.{concat}
use Rattle.mk_lines.specs.LogicalLines.{is_open}
use Rattle.mk_lines.specs.Cells.{Cell, joined_byte}
use Rattle.mk_lines.specs.CellFaults.{is_fold}
use Rattle.mk_lines.specs.Units.{is_closed}
use Rattle.mk_lines.specs.Pieces.{Replacement, replaced}
use Rattle.mk_class.specs.ListTests.{is_empty, last_passes}
use Rattle.mk_class.specs.Texts.{word_texts}
use Rattle.mk_class.specs.Arguments.{is_value}
use Rattle.mk_class.specs.Assignments.{Assignment}
use Rattle.mk_class.specs.Classes.{Class}
use Rattle.mk_class.specs.Contexts.{Context, start, context_after}
use Rattle.mk_class.specs.ClassedLines.{ClassedLine}
use Rattle.mk_class.specs.declared.context.RuleFlag.{RuleFlag}
use Rattle.mk_class.specs.declared.context.RuleFlag.TheVariants.{Off, Rule}
use Rattle.mk_edit_language.specs.Edits.{Place, Bottom, NewAssign, Which, One, Every, ValueChange, Set, SetIf, Append, Add, Remove, LineChange, Switch, Edit, ChangeValue, ChangeLine, AddLine, SwitchLine, EachLine}
use Rattle.mk_edit_language.specs.Addresses.{Variable, value_address, switch_address, found}
use Rattle.mk_edit_language.specs.Stretches.{Stretch, insertion, removal}
use Rattle.mk_tree.specs.Documents.{context_of}
use Rattle.mk_tree.specs.Leaning.{leans}
use Rattle.mk_tree.specs.LineTexts.{StandingLine}
use Rattle.mk_edit_language.specs.ValueChanges.{assignment_passes, is_changed}
use Rattle.mk_edit_language.specs.LineChanges.{is_misread}
use Rattle.mk_edit_language.specs.SwitchedLines.{is_switch_misread, leans_on_assignment}
use Rattle.mk_edit_language.specs.EachLine.{EachChange, MarkedLine, marked, each_change, is_each_changed, is_change_misread}
use Rattle.mk_edit_language.specs.RuleCauses.{class_meant}
use Rattle.mk_edit_language.specs.Causes.{where_holds}
use Rattle.mk_edit_language.specs.declared.refusal.Refusal.{Refusal}
use Rattle.mk_edit_language.specs.declared.refusal.Refusal.TheVariants.{OpenValue, OpenLine, OpenDefine, Leans, TooLong, Misread}

-- ---- OpenValue: the value is not closed; a new word would be read together with its end; or what
-- ---- follows a word that goes would be read together with the word before it

-- whether an assignment is found and its value is not closed
abbrev has_open_value : Option (Class Cell) → Bool
has_open_value k = assignment_passes (λ a. not (is_closed joined_byte (concat a.value))) k

-- whether the last cell of a value is a fold
abbrev pub ends_in_fold : Assignment Cell → Bool
ends_in_fold a = last_passes is_fold (concat a.value)

-- whether some word directly before one that goes is no value: what follows the word that goes would
-- then be read together with the end of the word before it
abbrev pub bares_end_among : (word : List ℕ) → (words : List (List ℕ)) → Bool
bares_end_among w [] = false
bares_end_among w (x ∷ []) = false
bares_end_among w (x ∷ y ∷ xs) =
    (bytes_eq y w && not (is_value x)) || bares_end_among w (y ∷ xs)

abbrev pub bares_end : (word : List ℕ) → Assignment Cell → Bool
bares_end w a = bares_end_among w (word_texts joined_byte a.value)

-- whether a change would be refused for the value of an assignment that is found
abbrev pub is_open_to : ValueChange → Option (Class Cell) → Bool
is_open_to (Set v) k = false
is_open_to (SetIf o v) k = false
is_open_to (Append v) k = has_open_value k
is_open_to (Add w) k = has_open_value k || assignment_passes ends_in_fold k
is_open_to (Remove w) k = has_open_value k || assignment_passes (bares_end w) k

-- whether a change would be refused for a value of the name that is meant, and that it changes
abbrev is_any_open : List ClassedLine → Which → (name : List ℕ) → ValueChange → Bool
is_any_open ls (One nth) n c = is_open_to c (class_meant ls (value_address nth n c))
is_any_open ls Every n c = list_any (λ l. is_changed n c l && is_open_to c (Some l.class)) ls

abbrev pub open_value : List ClassedLine → Edit → Option Refusal
open_value ls (ChangeValue w n c) = where_holds (is_any_open ls w n c) OpenValue
open_value ls e = None

-- ---- OpenLine: a new line would follow a last line that is open

-- whether a new line would follow a last line that is open
abbrev pub follows_open_line : Option Stretch → Bool
follows_open_line None = false
follows_open_line (Some s) = is_empty s.below && last_passes (λ l. is_open l.bytes) s.above

abbrev pub open_line : List ClassedLine → Edit → Option Refusal
open_line ls e = where_holds (follows_open_line (insertion ls e)) OpenLine

-- ---- OpenDefine: the place is the end of the text, and a define is open there

abbrev pub open_define_at : List ClassedLine → Place → Option Refusal
open_define_at ls Bottom = where_holds (nat_lt 0 (context_of ls).defines) OpenDefine
open_define_at ls p = None

abbrev pub open_define : List ClassedLine → Edit → Option Refusal
open_define ls (AddLine p l) = open_define_at ls p
open_define ls e = None

-- ---- Leans: the flag below the change differs, and the next line that counts begins with the prefix

-- the flag below a new line
abbrev pub flag_below_new : Edit → RuleFlag
flag_below_new (AddLine p (NewAssign n f v)) = Off
flag_below_new e = Rule

-- whether the lines below lean on two flags: the flag with a new line above them, and the flag
-- without it
abbrev pub new_line_leans : Edit → Option Stretch → Bool
new_line_leans e None = false
new_line_leans e (Some s) =
    leans (context_of s.above).prefix (flag_below_new e) (context_of s.above).flag s.below

-- whether the lines below lean on two flags: the flag without the lines that are taken out, and the
-- flag with them
abbrev pub removal_leans : Option Stretch → Bool
removal_leans None = false
removal_leans (Some s) =
    leans (context_of s.above).prefix (context_of s.above).flag
    (context_of (s.above ++ s.lines)).flag s.below

-- whether the lines below a line that becomes a comment, or that was one, lean on two flags: the flag
-- with an assignment there, and the flag without; a comment that would be misread is refused for that
abbrev pub switch_leans : Switch → (name : List ℕ) → Option StandingLine → Bool
switch_leans w n None = false
switch_leans w n (Some s) = not (is_switch_misread w n s) && leans_on_assignment s

abbrev pub switched_leans : List ClassedLine → Edit → Bool
switched_leans ls (SwitchLine w nth n) = switch_leans w n (found ls (switch_address w nth n))
switched_leans ls e = false

abbrev pub leaning : List ClassedLine → Edit → Option Refusal
leaning ls e =
    where_holds
    (switched_leans ls e || (new_line_leans e (insertion ls e) || removal_leans (removal ls e))) Leans

-- ---- TooLong: the result has more than 16,777,216 bytes

abbrev pub too_long : (text : List ℕ) → List Replacement → Option Refusal
too_long t rs = where_holds (nat_lt max_text (length (replaced 0 t rs))) TooLong

-- ---- Misread: a line that the edit would write does not read as the edit says

-- whether the line that is found would be misread after a change
abbrev pub is_found_misread : LineChange → Option StandingLine → Bool
is_found_misread c None = false
is_found_misread c (Some s) = is_misread c (context_of s.above) s.line.bytes s.line.class

-- whether a line that is changed would be misread; the first line stands in this context
abbrev pub is_any_misread : EachChange → Context → List MarkedLine → Bool
is_any_misread c context [] = false
is_any_misread c context (m ∷ ms) =
    (is_each_changed c m && is_change_misread c context m.line)
    || is_any_misread c (context_after context m.line.class) ms

-- whether the line that was a comment would be misread
abbrev pub is_found_switch_misread : Switch → (name : List ℕ) → Option StandingLine → Bool
is_found_switch_misread w n None = false
is_found_switch_misread w n (Some s) = is_switch_misread w n s

abbrev pub misread : List ClassedLine → Edit → Option Refusal
misread ls (ChangeLine nth n c) =
    where_holds (is_found_misread c (found ls (Variable nth n))) Misread
misread ls (SwitchLine w nth n) =
    where_holds (is_found_switch_misread w n (found ls (switch_address w nth n))) Misread
misread ls (EachLine e) =
    where_holds (is_any_misread (each_change e) start (marked e ls)) Misread
misread ls e = None
