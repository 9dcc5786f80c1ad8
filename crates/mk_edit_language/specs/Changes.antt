-- What an accepted edit does to the reading.
-- Told in docs/EDITS.md, "Variables", "Rules", "Recipes" and "Targets".
use Rattle.std.specs.Prelude.{ℕ, ◌+◌, ◌&&◌, ◌==◌, if◌then◌else◌, Bool, true, false, not, List, [], ◌∷◌, ◌++◌, map, take, drop, filter, length, None, option_map}
use Rattle.std.specs.Str.{bytes_eq}
use Rattle.mk_lines.specs.Lists.{concat}
use Rattle.mk_lines.specs.Cells.{Cell, joined_byte}
use Rattle.mk_lines.specs.CellFaults.{is_fold}
use Rattle.mk_lines.specs.Pieces.{Replacement, new_bytes}
use Rattle.mk_lines.specs.Words.{words_in}
use Rattle.mk_class.specs.ListTests.{is_empty, last_passes}
use Rattle.mk_class.specs.Texts.{unit_text}
use Rattle.mk_class.specs.Assignments.{Assignment}
use Rattle.mk_class.specs.Classes.{Class}
use Rattle.mk_class.specs.Classes.Class.{Assign as AssignLine, Header as HeaderLine}
use Rattle.mk_class.specs.ClassedLines.{ClassedLine, classed_lines}
use Rattle.mk_class.specs.declared.rule.Separator.{Separator}
use Rattle.mk_class.specs.declared.rule.Separator.TheVariants.{SingleColon, DoubleColon}
use Rattle.mk_tree.specs.Documents.{text_of}
use Rattle.mk_tree.specs.Items.{Item, Assign, TargetAssign, Header, Recipe, Sets, items, items_of_line, header_item}
use Rattle.mk_tree.specs.LineTexts.{StandingLine}
use Rattle.mk_edit_language.specs.Edits.{NewLine, NewAssign, NewRule, One, Every, ValueChange, Set, SetIf, Append, Add, Remove, LineChange, PrereqChange, AddPrereq, RemovePrereq, ReplacePrereq, Switch, Edit, ChangeValue, ChangeLine, ChangePrereqs, AddLine, AddRecipe, SetRecipe, RemoveLines, SwitchLine, RenameTarget, ExchangeLines, EachLine}
use Rattle.mk_edit_language.specs.Addresses.{Variable, Rule, value_address, switch_address, found}
use Rattle.mk_edit_language.specs.Stretches.{Stretch, this_line, place_found, recipe_place, removed, recipe_found}
use Rattle.mk_edit_language.specs.ValueChanges.{set_value_span, led_words, staying, from_first_word, is_changed}
use Rattle.mk_edit_language.specs.LineChanges.{assigned_after}
use Rattle.mk_edit_language.specs.SwitchedLines.{switched_items}
use Rattle.mk_edit_language.specs.LineRuns.{site_found}
use Rattle.mk_edit_language.specs.LineExchanges.{new_lines}
use Rattle.mk_edit_language.specs.EachLine.{EachChange, InAssignment, InRecipe, MarkedLine, marked, each_change, recipe_text_pieces, is_each_changed}
use Rattle.mk_edit_language.specs.EditSpans.{where_found}
use Rattle.mk_edit_language.specs.declared.edit.RuleSeparator.{RuleSeparator}
use Rattle.mk_edit_language.specs.declared.edit.RuleSeparator.TheVariants.{Single, Double}

-- ---- the items of the other lines stay

-- the items of a text, with these items in the place of those of a stretch
abbrev pub with_items : List Item → Stretch → List Item
with_items is s = items s.above ++ (is ++ items s.below)

-- ---- values

-- an assignment's item with another value
abbrev pub item_with_value : Assignment Cell → (value : List ℕ) → Item
item_with_value a v = Assign (Sets a.modifiers (unit_text joined_byte a.name) a.flavor v)

-- the item of a line of this class with another value; the line begins at this offset
abbrev pub value_item : (ℕ → Assignment Cell → List ℕ) → (line_start : ℕ) → Class Cell → List Item
value_item f at (AssignLine a p) = item_with_value a (f at a) ∷ []
value_item f at k = []

abbrev pub with_value : (ℕ → Assignment Cell → List ℕ) → StandingLine → List Item
with_value f s =
    with_items (value_item f (length (text_of s.above)) s.line.class) (this_line s)

-- whether a line feed stands directly before a span, and the span reaches the end of the text
abbrev pub leaves_fold_last : (text : List ℕ) → Replacement → Bool
leaves_fold_last t r = last_passes (λ b. b == 10) (take r.start t) && is_empty (drop r.end t)

-- The value that is set. If the new value is empty, and a part of a fold stays without its next
-- line, the value is one lone backslash.
abbrev pub value_set : (text value : List ℕ) → (line_start : ℕ) → Assignment Cell → List ℕ
value_set t v at a = if is_empty v && leaves_fold_last t (set_value_span v at a) then 92 ∷ [] else v

-- The value with a text appended: the old value, a space and the text. There is no space if the old
-- value is empty, or if its last cell is a fold, which is read as the space.
abbrev pub value_appended : (value : List ℕ) → Assignment Cell → List ℕ
value_appended v a =
    unit_text joined_byte a.value
    ++ (if is_empty a.value then v else if last_passes is_fold (concat a.value) then v else 32 ∷ v)

-- The value without each word that is this one. Of the blanks of the value those stay that stand
-- before a word that stays, except before the first. If no word stays, the value is set to the empty
-- one.
abbrev pub value_without : (text word : List ℕ) → (line_start : ℕ) → Assignment Cell → List ℕ
value_without t w at a =
    if is_empty (staying w (led_words a.value)) then value_set t [] at a else
    unit_text joined_byte (from_first_word (staying w (led_words a.value)))

-- the value after a change
abbrev pub value_changed : (text : List ℕ) → ValueChange → (line_start : ℕ) → Assignment Cell
    → List ℕ
value_changed t (Set v) at a = value_set t v at a
value_changed t (SetIf o v) at a = value_set t v at a
value_changed t (Append v) at a = value_appended v a
value_changed t (Add w) at a = value_appended w a
value_changed t (Remove w) at a = value_without t w at a

-- the item of a line that begins at this offset: with its value changed, if the line is changed
abbrev pub changed_items : (text name : List ℕ) → ValueChange → (line_start : ℕ) → ClassedLine
    → List Item
changed_items t n c at l =
    if is_changed n c l then value_item (value_changed t c) at l.class else items_of_line l.class l.bytes

-- the items of lines, with each value of the name changed; the first line begins at this offset
abbrev pub with_values : (text name : List ℕ) → ValueChange → (start : ℕ) → List ClassedLine
    → List Item
with_values t n c at [] = []
with_values t n c at (l ∷ ls) =
    changed_items t n c at l ++ with_values t n c (at + length l.bytes) ls

-- the item of a line of this class after a change that is checked by reading
abbrev pub line_item : LineChange → Class Cell → List Item
line_item c (AssignLine a p) = Assign (assigned_after c a) ∷ []
line_item c k = []

abbrev pub with_line_changed : LineChange → StandingLine → List Item
with_line_changed c s = with_items (line_item c s.line.class) (this_line s)

-- the item of a line goes, or comes in, if the line becomes a comment, or was one
abbrev pub with_switched : Switch → StandingLine → List Item
with_switched w s = with_items (switched_items w s) (this_line s)

-- ---- several lines, checked by reading

-- the items of a line of this class after the change
abbrev pub items_said : EachChange → Class Cell → (line : List ℕ) → List Item
items_said (InAssignment c) k l = line_item c k
items_said (InRecipe f t) k l = Recipe (new_bytes (recipe_text_pieces f t l)) ∷ []

-- the items of a line after the edit
abbrev pub each_items : EachChange → MarkedLine → List Item
each_items c m =
    if is_each_changed c m
    then items_said c m.line.class m.line.bytes
    else items_of_line m.line.class m.line.bytes

-- ---- prerequisites and targets

-- the item of a header, changed by `f`; no item if the line is no header
abbrev pub header_items : (Item → Item) → Class Cell → List Item
header_items f (HeaderLine h) = f (header_item h) ∷ []
header_items f k = []

abbrev pub with_header : (Item → Item) → StandingLine → List Item
with_header f s = with_items (header_items f s.line.class) (this_line s)

-- a word put last in a list of prerequisites
abbrev pub with_prerequisite : (order : Bool) → (word : List ℕ) → Item → Item
with_prerequisite true w (Header ts s p n o i) = Header ts s p n (o ++ w ∷ []) i
with_prerequisite false w (Header ts s p n o i) = Header ts s p (n ++ w ∷ []) o i
with_prerequisite order w i = i

-- words without each word that is this one
abbrev pub without_word : (word : List ℕ) → List (List ℕ) → List (List ℕ)
without_word w ws = filter (λ x. not (bytes_eq x w)) ws

-- a header without each prerequisite that is this word
abbrev pub without_prerequisite : (word : List ℕ) → Item → Item
without_prerequisite w (Header ts s p n o i) = Header ts s p (without_word w n) (without_word w o) i
without_prerequisite w i = i

-- words with the new word in the place of each old one
abbrev pub rename_words : (old new : List ℕ) → List (List ℕ) → List (List ℕ)
rename_words o n ws = map (λ w. if bytes_eq w o then n else w) ws

-- a header with the new word in the place of each prerequisite that is the old one
abbrev pub with_prerequisite_replaced : (old new : List ℕ) → Item → Item
with_prerequisite_replaced o n (Header ts s p ns os i) =
    Header ts s p (rename_words o n ns) (rename_words o n os) i
with_prerequisite_replaced o n i = i

-- a header after a change of its prerequisites
abbrev pub with_prereqs : PrereqChange → Item → Item
with_prereqs (AddPrereq order w) i = with_prerequisite order w i
with_prereqs (RemovePrereq w) i = without_prerequisite w i
with_prereqs (ReplacePrereq o n) i = with_prerequisite_replaced o n i

-- an item with the new word in the place of each target and each prerequisite that is the old word
abbrev pub renamed_item : (old new : List ℕ) → Item → Item
renamed_item o n (Header ts s p ns os i) =
    Header (rename_words o n ts) s p (rename_words o n ns) (rename_words o n os) i
renamed_item o n (TargetAssign ts s a) = TargetAssign (rename_words o n ts) s a
renamed_item o n i = i

-- ---- new items

-- the separator of a new rule
abbrev pub separator_of : RuleSeparator → Separator
separator_of Single = SingleColon
separator_of Double = DoubleColon

-- a new line that goes to a place
abbrev pub new_item : NewLine → Item
new_item (NewAssign n f v) = Assign (Sets [] n f v)
new_item (NewRule ts c ws) = Header (words_in ts) (separator_of c) [] (words_in ws) [] None

-- the reading with the items of whole new lines in the place of those of the lines that go
abbrev pub with_new_lines : (text : List ℕ) → (new : List (List ℕ)) → Stretch → List Item
with_new_lines t ts s = with_items (items (new_lines t ts s)) s

-- ---- the change

-- the reading after an edit that no cause refuses
abbrev change_of : (text : List ℕ) → List ClassedLine → Edit → List Item
change_of t ls (ChangeValue (One nth) n c) =
    where_found (with_value (value_changed t c)) (found ls (value_address nth n c))
change_of t ls (ChangeValue Every n c) = with_values t n c 0 ls
change_of t ls (ChangeLine nth n c) =
    where_found (with_line_changed c) (found ls (Variable nth n))
change_of t ls (ChangePrereqs nth g c) =
    where_found (with_header (with_prereqs c)) (found ls (Rule nth g))
change_of t ls (AddLine p l) =
    where_found (with_items (new_item l ∷ [])) (place_found ls p)
change_of t ls (AddRecipe nth g p c) =
    where_found (with_items (Recipe c ∷ [])) (recipe_place ls nth g p)
change_of t ls (SetRecipe nth g w c) =
    where_found (with_items (Recipe c ∷ [])) (option_map this_line (recipe_found ls nth g w))
change_of t ls (RemoveLines r) = where_found (with_items []) (removed ls r)
change_of t ls (SwitchLine w nth n) =
    where_found (with_switched w) (found ls (switch_address w nth n))
change_of t ls (RenameTarget o n) = map (renamed_item o n) (items ls)
change_of t ls (ExchangeLines s ts) = where_found (with_new_lines t ts) (site_found ls s)
change_of t ls (EachLine e) = concat (map (each_items (each_change e)) (marked e ls))

abbrev pub change : (text : List ℕ) → Edit → List Item
change t e = change_of t (classed_lines t) e
