-- What a change of all values of a name finds among the lines of a document, which of them it changes,
-- and the first cause of refusal that this decides.
-- Told in docs/ARCHITECTURE.md, "An edit's way, from Edit to moved lines".
use Rattle.std.specs.Prelude.{◌≡◌, ℕ, ◌+◌, ◌*◌, ◌≤◌, ◌==◌, ◌||◌, not, nat_lt, if◌then◌else◌, Bool, true, false, List, [], ◌∷◌, ◌++◌, drop, length, map, Option, None, IfSome}
use Rattle.mk_lines.specs.Limits.{max_text}
use Rattle.mk_class.specs.Contexts.{Context, start, context_after_located}
use Rattle.mk_tree.specs.LocatedLines.{LocatedLine, size_of}
use Rattle.mk_tree.specs.Trees.{line_view}
use Rattle.mk_edit_language.specs.Causes.{where_holds}
use Rattle.mk_edit_language.specs.Edits.{ValueChange, Set, SetIf, Append, Add, Remove}
use Rattle.mk_edit_language.specs.Refusals.{first_cause}
use Rattle.mk_edit_language.specs.declared.refusal.Refusal.{Refusal}
use Rattle.mk_edit_language.specs.declared.refusal.Refusal.TheVariants.{Absent, Already, NoSuch, OpenValue, RecipePrefix, TooLong}
use Rattle.mk_edit_parts.specs.LocatedParts.{assigns_located, is_unread_located}
use Rattle.mk_edit_parts.specs.declared.seek.Found.{Found}
use Rattle.mk_edit.specs.ValueChangeLines.{has_effect_located, is_changed_located, is_open_located, put_by, spared_by}
use Rattle.mk_edit.specs.declared.change_values_places.Meant.{Meant}
use Rattle.mk_edit.specs.declared.change_values_survey.Findings.{Findings}

-- ---- what is found

-- what is found with one line more, by what is asked of the line
abbrev pub found_so : (unread there changed opened : Bool) → (spared : ℕ) → Findings → Findings
found_so u t k o s f = record {
  has_unread_prefix = f.has_unread_prefix || u;
  is_there = f.is_there || t;
  is_open = if k then f.is_open || o else f.is_open;
  lines = if k then f.lines + 1 else f.lines;
  spared = if k then f.spared + s else f.spared;
}

abbrev pub found_by : (name : List ℕ) → ValueChange → LocatedLine → Findings → Findings
found_by n c l f =
    found_so (is_unread_located l) (assigns_located n l) (is_changed_located n c l)
    (is_open_located c l) (spared_by c l) f

-- what is found among no lines
abbrev pub nothing_found : Findings
nothing_found = record {
  has_unread_prefix = false;
  is_there = false;
  is_open = false;
  lines = 0;
  spared = 0;
}

-- what is found with some lines more
abbrev pub found_with : (name : List ℕ) → ValueChange → Findings → List LocatedLine → Findings
found_with n c f [] = f
found_with n c f (l ∷ ls) = found_with n c (found_by n c l f) ls

-- what is found among lines
abbrev pub findings_on : (name : List ℕ) → ValueChange → List LocatedLine → Findings
findings_on n c ls = found_with n c nothing_found ls

-- what is found in the line of an assignment that is meant
abbrev pub found_in : ValueChange → LocatedLine → Findings
found_in c l = record {
  has_unread_prefix = false;
  is_there = true;
  is_open = is_open_located c l;
  lines = if has_effect_located c l then 1 else 0;
  spared = spared_by c l;
}

-- ---- the lines that are changed

-- A line that is changed: where it stands, and the line.
pub record MeantLine : Type 0 where
  pub place : Found
  pub line : LocatedLine

-- what a note says, whatever stands left and right of its line in the tree
abbrev pub meant_view : {A : _} → Meant A → MeantLine
meant_view m = record { place = m.place; line = line_view m.line.now }

-- The lines that are changed, in their order; the first line stands at this index and in this
-- context.
abbrev pub meant_places_from : (name : List ℕ) → ValueChange → (at : ℕ) → Context
    → List LocatedLine → List MeantLine
meant_places_from n c at x [] = []
meant_places_from n c at x (l ∷ ls) =
    let below = meant_places_from n c (at + 1) (context_after_located x l.class) ls in
    if is_changed_located n c l
    then record { place = record { at = at; context = x }; line = l } ∷ below
    else below

-- the lines of a document that are changed
abbrev pub meant_places : (name : List ℕ) → ValueChange → List LocatedLine → List MeantLine
meant_places n c ls = meant_places_from n c 0 start ls

-- ---- a walk over a document

-- A walk over a document has come to a place. What it has found, with what it finds among the lines
-- from the place on, is what is found among all lines; and so are its notes, if it has any. There is
-- room for the numbers of what it finds.
pub record IsSurveyedTo {A : _} {X : Type 0} (name : List ℕ) (c : ValueChange)
    (document : List LocatedLine) (place : Found) (findings : Findings)
    (items : X → List (Meant A)) (notes : Option X)
    : Type 0 where
  pub few : findings.lines ≤ place.at
  pub room : findings.spared
      + (size_of (drop place.at document) + length (drop place.at document)) ≤ 2 * max_text
  pub findings_are : found_with name c findings (drop place.at document)
      ≡ findings_on name c document
  pub places_are : IfSome notes (λ p. map meant_view (items p)
      ++ meant_places_from name c place.at place.context (drop place.at document)
      ≡ meant_places name c document)

-- ---- the first cause

-- the refusal of a change that changes this many lines: if it changes none, the word is there already,
-- or the word or the value is absent
abbrev pub idle : ValueChange → (lines : ℕ) → Option Refusal
idle (Set v) n = None
idle (SetIf o v) n = where_holds (n == 0) Absent
idle (Append v) n = None
idle (Add w) n = where_holds (n == 0) Already
idle (Remove w) n = where_holds (n == 0) Absent

-- the first cause of refusal that holds, by what lines tell: whether the recipe prefix is set unread,
-- whether the name is there, what refuses a change of nothing, whether a value is open, and whether
-- the text would be too long
abbrev pub first_said : (is_unread is_there : Bool) → (idle : Option Refusal)
    → (is_open is_long : Bool) → Option Refusal
first_said u f i o g =
    first_cause (
    where_holds u RecipePrefix
    ∷ where_holds (not f) NoSuch
    ∷ i
    ∷ where_holds o OpenValue
    ∷ where_holds g TooLong
    ∷ [])

-- the first cause of refusal that lies in the lines of a text of this size, by what is found
abbrev pub first_of_findings : ValueChange → Findings → (size : ℕ) → Option Refusal
first_of_findings c f s =
    first_said f.has_unread_prefix f.is_there (idle c f.lines) f.is_open
    (nat_lt (max_text + f.spared) (s + f.lines * put_by c))
