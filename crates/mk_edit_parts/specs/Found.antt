-- Where an edit applies: the place of the line that it means, where no cause of refusal holds that
-- comes before the edit's own causes.
-- Told in docs/ARCHITECTURE.md, "An edit's way, from Edit to moved lines".
use Rattle.std.specs.Prelude.{◌≡◌, ◌==◌, Bool, false, not, ◌&&◌, List, [], ◌∷◌, length, take, Option, Some, None}
use Rattle.mk_class.specs.ClassedLines.{ClassedLine, classed_lines}
use Rattle.mk_tree.specs.Documents.{context_of}
use Rattle.mk_tree.specs.LocatedLines.{LocatedLine, located_text}
use Rattle.mk_tree.specs.LineTexts.{StandingLine}
use Rattle.mk_edit_language.specs.Edits.{Edit}
use Rattle.mk_edit_language.specs.Addresses.{Address, Valued, address, candidates, found}
use Rattle.mk_edit_language.specs.ArgumentCauses.{bad_argument, reserved}
use Rattle.mk_edit_language.specs.AddressCauses.{assigns_none, unread_prefix, no_such, no_such_line, ambiguous, ambiguous_line}
use Rattle.mk_edit_language.specs.Refusals.{first_cause}
use Rattle.mk_edit_language.specs.KeptLines.{IsOfOnePlace}
use Rattle.mk_edit_language.specs.declared.refusal.Refusal.{Refusal}
use Rattle.mk_edit_parts.specs.declared.seek.Found.{Found}

-- the line that an address means stands at this place, in this context
pub record IsFoundAt (ls : List ClassedLine) (a : Address) (f : Found) : Type 0 where
  pub spot : StandingLine
  pub found_is : found ls a ≡ Some spot
  pub place_is : length spot.above ≡ f.at
  pub context_is : context_of spot.above ≡ f.context

-- the lines end at this place, and leave this context
pub record IsEnd (ls : List ClassedLine) (f : Found) : Type 0 where
  pub place_is : length ls ≡ f.at
  pub context_is : context_of ls ≡ f.context

-- where an edit applies: at the line that its address means, or at the end if it has no address
abbrev pub IsMeant : List ClassedLine → Option Address → Found → Type 0
IsMeant ls None f = IsEnd ls f
IsMeant ls (Some a) f = IsFoundAt ls a f

-- the line that an address means is found at this place, or the end of the lines if there is no
-- address
pub record IsPicked (ls : List ClassedLine) (a : Option Address) (f : Found) : Type 0 where
  pub is_there : no_such_line ls a ≡ None
  pub is_one : ambiguous_line ls a ≡ None
  pub meant : IsMeant ls a f

-- an address means no one line; this is the refusal
abbrev pub IsNotPicked : List ClassedLine → Option Address → Refusal → Type 0
IsNotPicked ls a r = first_cause (no_such_line ls a ∷ ambiguous_line ls a ∷ []) ≡ Some r

-- whether the value of an address is absent: some line assigns the name, and none of these lines has
-- the value
abbrev pub is_absent_at : List ClassedLine → Option Address → Bool
is_absent_at ls (Some (Valued nth n v)) =
    (length (candidates ls (Valued nth n v)) == 0) && not (assigns_none n ls)
is_absent_at ls a = false

-- An edit of one place of which no cause holds that comes before its own causes; and the place where
-- it applies is found.
pub record IsAddressed (e : Edit) (ls : List LocatedLine) (f : Found) : Type 0 where
  pub one_place : IsOfOnePlace e
  pub arguments : bad_argument e ≡ None
  pub not_reserved : reserved e ≡ None
  pub prefix_read : unread_prefix (classed_lines (located_text ls)) ≡ None
  pub is_there : no_such (classed_lines (located_text ls)) e ≡ None
  pub is_one : ambiguous (classed_lines (located_text ls)) e ≡ None
  pub meant : IsMeant (classed_lines (located_text ls)) (address e) f

-- a place of a document, with the context of the lines before it
abbrev pub IsPlaceOf : List LocatedLine → Found → Type 0
IsPlaceOf ls place = context_of (take place.at (classed_lines (located_text ls))) ≡ place.context
