-- The lines of a document that assign a variable, whatever the number of the one that is sought.
-- Told in docs/ARCHITECTURE.md, "The index of a session".
use Rattle.std.specs.Prelude.{◌≡◌, ℕ, Bool, false, List, [], length}
use Rattle.mk_class.specs.Contexts.{start}
use Rattle.mk_tree.specs.LocatedLines.{LocatedLine}
use Rattle.mk_edit_language.specs.Spots.{nth_of}
use Rattle.mk_edit_parts.specs.LocatedParts.{assigns_located}
use Rattle.mk_edit_parts.specs.SeekWalks.{nothing_seen, seek}
use Rattle.mk_edit_parts.specs.declared.seek.Found.{Found}
use Rattle.mk_edit_parts.specs.declared.seek.Sought.{Sought}

-- the places of some lines, and what else a walk over a document sees
pub record Listed : Type 0 where
  pub places : List Found
  pub has_unread_prefix : Bool
  pub end : Found

-- what is listed before a walk
abbrev pub nothing_listed : Listed
nothing_listed =
    record { places = []; has_unread_prefix = false; end = record { at = 0; context = start } }

-- what a walk for the line of this number has seen, by what is listed
abbrev pub seen_for : (wanted : ℕ) → Listed → Sought
seen_for w c = record {
  count = length c.places;
  found = nth_of w c.places;
  has_unread_prefix = c.has_unread_prefix;
  end = c.end;
}

-- the lines that assign a variable are listed: a walk for one of them, whatever its number, sees this
abbrev pub AreCandidates : (name : List ℕ) → List LocatedLine → Listed → Type 0
AreCandidates n ls c = (w : ℕ) → seen_for w c ≡ seek (assigns_located n) w nothing_seen ls
