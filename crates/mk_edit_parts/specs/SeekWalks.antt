-- A walk over the lines of a document for the line that an address means.
use Rattle.std.specs.Prelude.{◌||◌, ◌&&◌, ◌==◌, if◌then◌else◌, ℕ, ◌+◌, Bool, false, List, [], ◌∷◌, Some, None}
use Rattle.mk_class.specs.Contexts.{start, context_after_located}
use Rattle.mk_class.specs.declared.class.Class as class
use Rattle.mk_tree.specs.LocatedLines.{LocatedLine}
use Rattle.mk_edit_parts.specs.LocatedParts.{is_unread_located}
use Rattle.mk_edit_parts.specs.declared.seek.Sought.{Sought}

-- what a walk has seen after one more line
abbrev pub noted_by : (meant unread : Bool) → (wanted : ℕ) → class.Class → Sought → Sought
noted_by m u w k s = record {
  count = if m then s.count + 1 else s.count;
  found = if m && (s.count + 1 == w) then Some s.end else s.found;
  has_unread_prefix = s.has_unread_prefix || u;
  end = record { at = s.end.at + 1; context = context_after_located s.end.context k };
}

-- what a walk has seen after one more line of a document
abbrev pub noted : (test : LocatedLine → Bool) → (wanted : ℕ) → LocatedLine → Sought → Sought
noted test w l s = noted_by (test l) (is_unread_located l) w l.class s

-- what a walk has seen after some more lines
abbrev pub seek : (test : LocatedLine → Bool) → (wanted : ℕ) → Sought → List LocatedLine → Sought
seek test w s [] = s
seek test w s (l ∷ ls) = seek test w (noted test w l s) ls

-- what a walk has seen at its start
abbrev pub nothing_seen : Sought
nothing_seen =
    record {
      count = 0;
      found = None;
      has_unread_prefix = false;
      end = record { at = 0; context = start };
    }
