-- What an edit of several lines that is checked by reading finds among the lines of a document, which of
-- them it changes, and the first cause of refusal that this decides.
-- Told in docs/ARCHITECTURE.md, "An edit's way, from Edit to moved lines".
use Rattle.std.specs.Prelude.{◌≡◌, ℕ, ◌+◌, ◌*◌, ◌-◌, ◌^◌, ◌≤◌, ◌==◌, ◌||◌, min, nat_lt, if◌then◌else◌, Bool, false, List, [], ◌∷◌, ◌++◌, drop, length, map, take, Option, IfSome}
use Rattle.mk_lines.specs.Cells.{line_cells}
use Rattle.mk_lines.specs.Limits.{max_text}
use Rattle.mk_class.specs.Classes.Class.{Recipe}
use Rattle.mk_class.specs.ClassTable.{class_of}
use Rattle.mk_class.specs.Contexts.{Context, start, context_after_located}
use Rattle.mk_class.specs.RecipePrefix.{is_prefix_name}
use Rattle.mk_class.specs.declared.class.Class as class
use Rattle.mk_class.specs.declared.class.Class.TheVariants as variants
use Rattle.mk_tree.specs.LocatedLines.{LocatedLine, size_of, text_of_line}
use Rattle.mk_tree.specs.Trees.{line_view}
use Rattle.mk_edit_language.specs.Addresses.{each_address}
use Rattle.mk_edit_language.specs.Causes.{where_holds}
use Rattle.mk_edit_language.specs.Edits.{LineChange, InsertWord, Substitute, EachEdit, ChangeEach, SubstValues, SubstRecipe, SubstRecipes}
use Rattle.mk_edit_language.specs.EachLine.{EachChange, InAssignment, InRecipe, each_change}
use Rattle.mk_edit_language.specs.Refusals.{first_cause}
use Rattle.mk_edit_language.specs.declared.refusal.Refusal.{Refusal}
use Rattle.mk_edit_language.specs.declared.refusal.Refusal.TheVariants.{Absent, NoSuch, RecipePrefix, TooLong}
use Rattle.mk_edit_parts.specs.EachLineWalks.{is_meant_located, is_missing_among, no_reach, reach_after}
use Rattle.mk_edit_parts.specs.LineChangePlaces.{change_places, new_text, raw_ranges}
use Rattle.mk_edit_parts.specs.LocatedParts.{is_unread_located}
use Rattle.mk_edit_parts.specs.RecipeChanges.{recipe_ranges}
use Rattle.mk_edit_parts.specs.RenamedRanges.{bytes_in}
use Rattle.mk_edit_parts.specs.Windows.{below_all, first_place}
use Rattle.mk_edit_parts.specs.declared.each_line.Reach.{Reach}
use Rattle.mk_edit_parts.specs.declared.seek.Found.{Found}
use Rattle.mk_edit.specs.declared.each_line_count.PlaceCount.{PlaceCount}
use Rattle.mk_edit.specs.declared.each_line_notes.Noted.{Noted}
use Rattle.mk_edit.specs.declared.each_line_survey.Findings.{Findings}
use Rattle.mk_edit.specs.LineChangePlans.{IsAssigning}
use Rattle.mk_edit.specs.ValueChangeLines.{value_text_located}

-- ---- one line

-- A change may be made of the lines of several assignments: no word goes beside another one, and a text
-- that is looked for is not empty.
abbrev pub IsOfSeveral : LineChange → Type 0
IsOfSeveral (InsertWord i w n) = ⊥
IsOfSeveral (Substitute f t) = 1 ≤ length f
IsOfSeveral c = Unit {0}

-- A line that stands in this context is one that the change speaks of: the line of an assignment that
-- sets no recipe prefix, or a recipe line.
abbrev pub IsOwnLine : EachChange → Context → LocatedLine → Type 0
IsOwnLine (InAssignment c) x l = IsOfSeveral c × IsAssigning x l
IsOwnLine (InRecipe f t) x l = (1 ≤ length f) × (class_of x l.bytes ≡ Recipe)

-- its places can be counted
pub record IsCountable (c : EachChange) (l : LocatedLine) : Type 0 where
  pub context : Context
  pub own : IsOwnLine c context l
  pub short : length l.bytes ≤ max_text

-- an edit of several lines whose fields pass their tests, and whose name is not reserved
abbrev pub IsOfLines : EachEdit → Type 0
IsOfLines (ChangeEach n c) = (is_prefix_name n ≡ false) × IsOfSeveral c
IsOfLines (SubstValues f t) = 1 ≤ length f
IsOfLines (SubstRecipe nth g f t) = 1 ≤ length f
IsOfLines (SubstRecipes f t) = 1 ≤ length f

-- no places
abbrev pub no_places : PlaceCount
no_places = record { count = 0; bytes = 0; new = 0 }

-- the places of an assignment's line, of this class, that a change replaces
abbrev pub assignment_counted : LineChange → LocatedLine → class.Class → PlaceCount
assignment_counted c l (variants.Assign at p) = record {
  count = length (change_places c (text_of_line l) at);
  bytes = bytes_in (raw_ranges (line_cells l.bytes) (change_places c (text_of_line l) at));
  new = length (new_text c [] (value_text_located l));
}
assignment_counted c l k = no_places

-- the places of a line that a change replaces
abbrev pub places_counted : EachChange → LocatedLine → PlaceCount
places_counted (InAssignment c) l = assignment_counted c l l.class
places_counted (InRecipe f t) l = record {
  count = length (recipe_ranges f l.bytes);
  bytes = bytes_in (recipe_ranges f l.bytes);
  new = length t;
}

-- the places of a line that an edit replaces; a line that it does not mean has none
abbrev pub places_meant : EachEdit → Reach → LocatedLine → PlaceCount
places_meant e r l =
    if is_meant_located e r l then places_counted (each_change e) l else no_places

-- whether a line in which these places get their new text becomes longer
abbrev pub gets_longer : PlaceCount → Bool
gets_longer q = nat_lt q.bytes (q.count * q.new)

-- ---- what is found

-- what is found with one line more, in which these places are replaced. The greatest number that is
-- told of bytes is 2 ^ 64 - 1.
abbrev pub found_by : EachEdit → LocatedLine → PlaceCount → Findings → Findings
found_by e l q f = record {
  has_unread_prefix = f.has_unread_prefix || is_unread_located l;
  reach = reach_after e l f.reach;
  lines = if nat_lt 0 q.count then f.lines + 1 else f.lines;
  taken = f.taken + q.bytes;
  put = min (f.put + min (q.count * q.new) (2 ^ 64 - 1)) (2 ^ 64 - 1);
}

-- what is found among no lines
abbrev pub nothing_found : Findings
nothing_found = record {
  has_unread_prefix = false;
  reach = no_reach;
  lines = 0;
  taken = 0;
  put = 0;
}

-- what is found with some lines more
abbrev pub found_with : EachEdit → Findings → List LocatedLine → Findings
found_with e f [] = f
found_with e f (l ∷ ls) = found_with e (found_by e l (places_meant e f.reach l) f) ls

-- what is found among lines
abbrev pub findings_on : EachEdit → List LocatedLine → Findings
findings_on e ls = found_with e nothing_found ls

-- ---- the lines that are changed

-- A line that is changed: where it stands, the line, and whether it becomes longer.
pub record NotedLine : Type 0 where
  pub place : Found
  pub line : LocatedLine
  pub is_longer : Bool

-- what a note says, whatever stands left and right of its line in the tree
abbrev pub noted_view : {A : _} → Noted A → NotedLine
noted_view n = record { place = n.place; line = line_view n.line.now; is_longer = n.is_longer }

-- what is noted of a line that stands at this index and in this context
abbrev pub noted_line : (at : ℕ) → Context → LocatedLine → PlaceCount → NotedLine
noted_line at x l q =
    record { place = record { at = at; context = x }; line = l; is_longer = gets_longer q }

-- The lines that are changed, in their order; the first line stands at this index and in this
-- context, and this is how far the walk for meant lines
-- has come there.
abbrev pub noted_from : EachEdit → Reach → (at : ℕ) → Context → List LocatedLine → List NotedLine
noted_from e r at x [] = []
noted_from e r at x (l ∷ ls) =
    let q = places_meant e r l in
    let below = noted_from e (reach_after e l r) (at + 1) (context_after_located x l.class) ls in
    if nat_lt 0 q.count then noted_line at x l q ∷ below else below

-- the lines of a document that are changed
abbrev pub noted_lines : EachEdit → List LocatedLine → List NotedLine
noted_lines e ls = noted_from e no_reach 0 start ls

-- ---- a walk over a document

-- A walk over a document has come to a place. What it has found, with what it finds among the lines
-- from the place on, is what is found among all lines; and so are its notes, if it has any. There is
-- room for the numbers of what it finds.
pub record IsSurveyedTo {A : _} {X : Type 0} (e : EachEdit) (document : List LocatedLine)
    (place : Found) (findings : Findings) (items : X → List (Noted A)) (notes : Option X)
    : Type 0 where
  pub place_is : place ≡ below_all first_place (take place.at document)
  pub few_lines : findings.lines ≤ place.at
  pub few_passed : findings.reach.count ≤ place.at
  pub few_put : findings.put ≤ 2 ^ 64 - 1
  pub room : findings.taken + size_of (drop place.at document) ≤ max_text
  pub findings_are : found_with e findings (drop place.at document) ≡ findings_on e document
  pub notes_are : IfSome notes (λ p. map noted_view (items p)
      ++ noted_from e findings.reach place.at place.context (drop place.at document)
      ≡ noted_lines e document)

-- ---- the first cause

-- the first cause of refusal that lies in the lines of a text of this size, by what is found, but for
-- Misread
abbrev pub first_of_findings : EachEdit → Findings → (size : ℕ) → Option Refusal
first_of_findings e f s =
    first_cause (
    where_holds f.has_unread_prefix RecipePrefix
    ∷ where_holds (is_missing_among (each_address e) f.reach.count) NoSuch
    ∷ where_holds (f.lines == 0) Absent
    ∷ where_holds (nat_lt (max_text + f.taken) (s + f.put)) TooLong
    ∷ [])
