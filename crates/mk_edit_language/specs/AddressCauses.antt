-- The causes of refusal by where an edit applies: RecipePrefix, NoSuch and Ambiguous.
-- Told in docs/EDITS.md, "Refusals".
use Rattle.std.specs.Prelude.{ℕ, Bool, true, false, not, ◌&&◌, ◌||◌, List, [], ◌∷◌, length, Option, Some, None, is_some}
use Rattle.std.specs.List.{list_any}
use Rattle.mk_lines.specs.Cells.{Cell, joined_byte}
use Rattle.mk_lines.specs.Pieces.{Piece, new_bytes}
use Rattle.mk_class.specs.ListTests.{is_empty}
use Rattle.mk_class.specs.Texts.{unit_text}
use Rattle.mk_class.specs.RecipePrefix.{is_prefix_led, is_prefix_name}
use Rattle.mk_class.specs.Classes.{Class}
use Rattle.mk_class.specs.Classes.Class.{Assign, DefineHead}
use Rattle.mk_class.specs.Contexts.{Context, start, context_after}
use Rattle.mk_class.specs.ClassedLines.{ClassedLine}
use Rattle.mk_edit_language.specs.Edits.{Which, One, Every, ValueChange, SetIf, Edit, ChangeValue, AddLine, RenameTarget, EachLine}
use Rattle.mk_edit_language.specs.Spots.{nth_of}
use Rattle.mk_edit_language.specs.Addresses.{Address, Variable, Valued, assigns, candidates, nth_meant, address, each_address, is_a_target}
use Rattle.mk_edit_language.specs.Stretches.{Stretch, insertion}
use Rattle.mk_tree.specs.Documents.{context_of}
use Rattle.mk_tree.specs.LineTexts.{StandingLine}
use Rattle.mk_edit_language.specs.NewLines.{new_text}
use Rattle.mk_edit_language.specs.WordPieces.{renamed_pieces, is_replaced}
use Rattle.mk_edit_language.specs.Causes.{where_holds, or_else}
use Rattle.mk_edit_language.specs.RuleCauses.{straddles_at}
use Rattle.mk_edit_language.specs.declared.refusal.Refusal.{Refusal}
use Rattle.mk_edit_language.specs.declared.refusal.Refusal.TheVariants.{RecipePrefix, NoSuch, Ambiguous}

-- ---- RecipePrefix: the file sets `.RECIPEPREFIX` in a way that is not read

-- whether a line of this class sets `.RECIPEPREFIX` in a way that is not read
abbrev pub is_unread_prefix : Class Cell → Bool
is_unread_prefix (Assign a None) = is_prefix_name (unit_text joined_byte a.name)
is_unread_prefix (DefineHead p) = p
is_unread_prefix k = false

abbrev pub unread_prefix : List ClassedLine → Option Refusal
unread_prefix ls = where_holds (list_any (λ l. is_unread_prefix l.class) ls) RecipePrefix

-- ---- NoSuch: there is no such line, or no nth such line; the old name of a rename is no target; no
-- ---- line assigns the name whose values change, or the value that is set in the place of another

-- whether there is no line, or no nth line
abbrev pub is_missing : Option ℕ → List StandingLine → Bool
is_missing None ss = is_empty ss
is_missing (Some n) ss = not (is_some (nth_of n ss))

abbrev pub no_such_line : List ClassedLine → Option Address → Option Refusal
no_such_line ls None = None
no_such_line ls (Some a) = where_holds (is_missing (nth_meant a) (candidates ls a)) NoSuch

-- whether no line assigns a name
abbrev pub assigns_none : (name : List ℕ) → List ClassedLine → Bool
assigns_none n ls = not (list_any (λ l. assigns n l.class) ls)

-- whether there are lines, but no nth line
abbrev pub is_past : Option ℕ → List StandingLine → Bool
is_past nth ss = not (is_empty ss) && is_missing nth ss

-- of a value that is set in the place of another: that no line assigns the name; or that lines with the
-- other value do, but no nth line
abbrev pub no_such_value : List ClassedLine → Which → (name : List ℕ) → ValueChange → Option Refusal
no_such_value ls Every n c = where_holds (assigns_none n ls) NoSuch
no_such_value ls (One nth) n (SetIf o v) =
    where_holds (assigns_none n ls || is_past nth (candidates ls (Valued nth n o))) NoSuch
no_such_value ls (One nth) n c = no_such_line ls (Some (Variable nth n))

abbrev pub no_such : List ClassedLine → Edit → Option Refusal
no_such ls (ChangeValue w n c) = no_such_value ls w n c
no_such ls (RenameTarget o n) = where_holds (not (is_a_target ls o)) NoSuch
no_such ls (EachLine e) = no_such_line ls (each_address e)
no_such ls e = no_such_line ls (address e)

-- ---- Ambiguous: no number is given, and there are several such lines

-- whether no number is given and there are several lines
abbrev pub is_several : Option ℕ → List StandingLine → Bool
is_several None (s ∷ s' ∷ ss) = true
is_several nth ss = false

abbrev pub ambiguous_line : List ClassedLine → Option Address → Option Refusal
ambiguous_line ls None = None
ambiguous_line ls (Some a) =
    where_holds (is_several (nth_meant a) (candidates ls a)) (Ambiguous (length (candidates ls a)))

abbrev pub ambiguous : List ClassedLine → Edit → Option Refusal
ambiguous ls e = ambiguous_line ls (address e)

-- ---- Straddles, of a place after a rule; and RecipePrefix: a line that is written, no recipe line, would
-- ---- begin with the prefix in force

-- whether a new line would begin with the prefix
abbrev pub begins_new_line : Edit → Option Stretch → Bool
begins_new_line e None = false
begins_new_line e (Some s) =
    is_prefix_led (context_of s.above).prefix (new_text (context_of s.above).prefix e)

-- whether a rename changes a line and the new line would begin with the prefix
abbrev pub begins_renamed_line : (prefix : ℕ) → List Piece → Bool
begins_renamed_line p ps = list_any is_replaced ps && is_prefix_led p (new_bytes ps)

-- whether some line that a rename changes would begin with the prefix
abbrev pub begins_some_renamed_line : (old new : List ℕ) → Context → List ClassedLine → Bool
begins_some_renamed_line o n c [] = false
begins_some_renamed_line o n c (l ∷ ls) =
    begins_renamed_line c.prefix (renamed_pieces o n l.class)
    || begins_some_renamed_line o n (context_after c l.class) ls

abbrev pub misplaced : List ClassedLine → Edit → Option Refusal
misplaced ls (AddLine p l) =
    or_else (straddles_at ls p)
    (where_holds (begins_new_line (AddLine p l) (insertion ls (AddLine p l))) RecipePrefix)
misplaced ls (RenameTarget o n) = where_holds (begins_some_renamed_line o n start ls) RecipePrefix
misplaced ls e = None
