-- One edit of several lines that is checked by reading: the lines that it means, what it does to each,
-- the spans, and whether a new line reads as stated.
-- Told in docs/PROOFS.md, "An edit".
use Rattle.std.specs.Prelude.{ℕ, ◌+◌, ◌==◌, if◌then◌else◌, Bool, false, not, ◌&&◌, List, [], ◌∷◌, ◌++◌, map, take, drop, length, Some, None}
use Rattle.std.specs.List.{list_any}
use Rattle.std.specs.Str.{bytes_eq}
use Rattle.mk_lines.specs.Lists.{concat}
use Rattle.mk_lines.specs.PhysicalLines.{without_line_end}
use Rattle.mk_lines.specs.Cells.{Cell, Byte, joined_byte}
use Rattle.mk_lines.specs.Pieces.{Replacement, replaced, Piece, Keep, new_bytes, replacements}
use Rattle.mk_class.specs.Texts.{unit_text}
use Rattle.mk_class.specs.RecipePrefix.{is_prefix_name}
use Rattle.mk_class.specs.Classes.{Class, is_recipe}
use Rattle.mk_class.specs.Classes.Class.{Assign}
use Rattle.mk_class.specs.Contexts.{Context}
use Rattle.mk_class.specs.ClassTable.{class_of}
use Rattle.mk_class.specs.ClassedLines.{ClassedLine}
use Rattle.mk_tree.specs.LineTexts.{StandingLine}
use Rattle.mk_edit_language.specs.Edits.{LineChange, Substitute, EachEdit, ChangeEach, SubstValues, SubstRecipe, SubstRecipes}
use Rattle.mk_edit_language.specs.Spots.{spots}
use Rattle.mk_edit_language.specs.Addresses.{Variable, Rule, candidates, found}
use Rattle.mk_edit_language.specs.Stretches.{recipe_spots, recipes_found}
use Rattle.mk_edit_language.specs.WordPieces.{is_replaced}
use Rattle.mk_edit_language.specs.LineChanges.{substituted, line_pieces, fits_line, is_misread}

-- ---- the lines that are meant

-- whether a line of this class assigns a variable, and not `.RECIPEPREFIX`
abbrev pub assigns_other : Class Cell → Bool
assigns_other (Assign a p) = not (is_prefix_name (unit_text joined_byte a.name))
assigns_other k = false

-- the lines that an edit means; of a target, the recipe lines of the nth rule, or of each if no number
-- is given
abbrev pub lines_meant : List ClassedLine → EachEdit → List StandingLine
lines_meant ls (ChangeEach n c) = candidates ls (Variable None n)
lines_meant ls (SubstValues f t) = spots (λ l. assigns_other l.class) ls
lines_meant ls (SubstRecipe None g f t) = concat (map recipe_spots (candidates ls (Rule None g)))
lines_meant ls (SubstRecipe (Some n) g f t) = recipes_found (found ls (Rule (Some n) g))
lines_meant ls (SubstRecipes f t) = spots (λ l. is_recipe l.class) ls

-- a line, and whether an edit means it
pub record MarkedLine : Type 0 where
  pub line : ClassedLine
  pub is_meant : Bool

-- whether one of these lines stands below as many lines as this number says
abbrev pub stands_below : ℕ → List StandingLine → Bool
stands_below n ss = list_any (λ s. length s.above == n) ss

-- lines marked by those that are meant; as many lines stand above them as the number says
abbrev pub marked_by : (meant : List StandingLine) → (number : ℕ) → List ClassedLine
    → List MarkedLine
marked_by ss n [] = []
marked_by ss n (l ∷ ls) =
    record { line = l; is_meant = stands_below n ss } ∷ marked_by ss (n + 1) ls

abbrev pub marked : EachEdit → List ClassedLine → List MarkedLine
marked e ls = marked_by (lines_meant ls e) 0 ls

-- ---- what is done to a line that is meant

-- a change of the line of an assignment that sets no recipe prefix; or a text in the place of each
-- occurrence of another in a recipe line
pub data EachChange : Type 0 where
  InAssignment : LineChange → EachChange
  InRecipe : (from to : List ℕ) → EachChange

-- what an edit does to each line that it means
abbrev pub each_change : EachEdit → EachChange
each_change (ChangeEach n c) = InAssignment c
each_change (SubstValues f t) = InAssignment (Substitute f t)
each_change (SubstRecipe nth g f t) = InRecipe f t
each_change (SubstRecipes f t) = InRecipe f t

-- the text of a recipe line: after its first byte, up to its line end
abbrev pub recipe_text : (line : List ℕ) → List ℕ
recipe_text l = drop 1 (without_line_end l)

-- its pieces, from the left, with each occurrence of a text replaced
abbrev pub recipe_text_pieces : (from to line : List ℕ) → List Piece
recipe_text_pieces f t l = substituted f t 0 (map Byte (recipe_text l))

-- the pieces of a recipe line, up to its line end: the first byte stays
abbrev pub recipe_pieces : (from to line : List ℕ) → List Piece
recipe_pieces f t l = Keep (map Byte (take 1 l)) ∷ recipe_text_pieces f t l

-- the pieces of an assignment's line
abbrev pub assignment_pieces : LineChange → Class Cell → List Piece
assignment_pieces c (Assign a None) = line_pieces c a
assignment_pieces c k = []

-- the pieces of a line of this class
abbrev pub change_pieces : EachChange → Class Cell → (line : List ℕ) → List Piece
change_pieces (InAssignment c) k l = assignment_pieces c k
change_pieces (InRecipe f t) k l = if is_recipe k then recipe_pieces f t l else []

-- the line with its spans replaced
abbrev pub recipe_after : (from to line : List ℕ) → List ℕ
recipe_after f t l = replaced 0 l (replacements 0 (recipe_pieces f t l))

-- whether a line of this class is a recipe line, and has this text
abbrev pub reads_as_recipe : (text line : List ℕ) → Class Cell → Bool
reads_as_recipe t l k = is_recipe k && bytes_eq (recipe_text l) t

-- whether the line after the change, in the context of the line, does not read as stated
abbrev pub is_change_misread : EachChange → Context → ClassedLine → Bool
is_change_misread (InAssignment c) context l = is_misread c context l.bytes l.class
is_change_misread (InRecipe f t) context l =
    let m = recipe_after f t l.bytes in
    not (fits_line l.bytes m
    && reads_as_recipe (new_bytes (recipe_text_pieces f t l.bytes)) m (class_of context m))

-- ---- what is done to the lines

-- the pieces of a line: none if it is not meant
abbrev pub marked_pieces : EachChange → MarkedLine → List Piece
marked_pieces c m = if m.is_meant then change_pieces c m.line.class m.line.bytes else []

-- whether a line is changed: whether it is meant, and a part of it is replaced
abbrev pub is_each_changed : EachChange → MarkedLine → Bool
is_each_changed c m = list_any is_replaced (marked_pieces c m)

-- the bytes of a line after the edit: the line with its spans replaced
abbrev pub each_bytes : EachChange → MarkedLine → List ℕ
each_bytes c m = replaced 0 m.line.bytes (replacements 0 (marked_pieces c m))

-- the spans in lines; the first begins at this offset
abbrev pub marked_spans : EachChange → (start : ℕ) → List MarkedLine → List Replacement
marked_spans c at [] = []
marked_spans c at (m ∷ ms) =
    replacements at (marked_pieces c m) ++ marked_spans c (at + length m.line.bytes) ms

-- whether an edit changes some line
abbrev pub changes_any : List ClassedLine → EachEdit → Bool
changes_any ls e = list_any (is_each_changed (each_change e)) (marked e ls)
