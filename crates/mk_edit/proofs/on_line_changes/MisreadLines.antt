-- Whether the line of an assignment after a change reads as stated: by its bytes, its value and its operator.
use Rattle.std.proofs.Common.{◌≡◌, sym, ap, ◌∙◌, ℕ, Bool, true, false, not, ◌&&◌, List, [], ◌∷◌, None}
use Rattle.std.proofs.lemmas.Bool.{and_parts}
use Rattle.std.proofs.lemmas.List.{append-nil}
use Rattle.mk_lines.specs.Lists.{concat}
use Rattle.mk_lines.specs.LogicalLines.{logical_lines}
use Rattle.mk_lines.specs.Pieces.{replaced, replacements}
use Rattle.mk_lines.proofs.on_lines.LineLemmas.{concat-logical_lines}
use Rattle.mk_lines.specs.Cells.{Cell}
use Rattle.mk_class.specs.Assignments.{Assignment}
use Rattle.mk_class.specs.Classes.{Class}
use Rattle.mk_class.specs.Classes.Class.{Assign}
use Rattle.mk_class.specs.ClassTable.{class_of}
use Rattle.mk_class.specs.Contexts.{Context}
use Rattle.mk_tree.specs.LocatedLines.{LocatedLine}
use Rattle.mk_edit_language.specs.EachLine.{InAssignment, change_pieces, each_bytes}
use Rattle.mk_edit_language.specs.Edits.{LineChange}
use Rattle.mk_edit_language.specs.LineChanges.{assigned_after, fits_line, is_misread, is_one, line_after, reads_as}
use Rattle.mk_edit.specs.LineChangePlans.{IsAssignmentIn, is_changed_misread, meant_in}

-- a line that fits is one line
only-line : (ks : List (List ℕ)) (m : List ℕ) → is_one ks ≡ true → concat ks ≡ m → ks ≡ m ∷ []
only-line [] m h k = absurd (cc)
only-line (l ∷ []) m h k = ap (λ z. z ∷ []) (sym (append-nil l) ∙ k)
only-line (l ∷ l' ∷ ks) m h k = absurd (cc)

pub fits-one : (l m : List ℕ) → fits_line l m ≡ true → logical_lines m ≡ m ∷ []
fits-one l m h = only-line (logical_lines m) m (and_parts (is_one (logical_lines m)) _ h).0 (concat-logical_lines m)

-- whether a line fits, as a call tells it
pub fits-by : (old new old' new' : List ℕ) (r b : Bool) → r ≡ fits_line old' new' → old' ≡ old → new' ≡ new → r ≡ b → fits_line old new ≡ b
fits-by old new old' new' r b h o n e = sym (h ∙ (ap (λ z. fits_line z new') o ∙ ap (fits_line old) n)) ∙ e

module _ (c : LineChange) (x : Context) (l : LocatedLine) (a : Assignment Cell) (I : IsAssignmentIn x l a) where
  -- the line after the change, and whether it is misread, by the assignment
  pub bytes-in : each_bytes (InAssignment c) (meant_in x l.bytes) ≡ line_after c l.bytes a
  bytes-in = ap (λ (k : Class Cell). replaced 0 l.bytes (replacements 0 (change_pieces (InAssignment c) k l.bytes))) I.here

  pub misread-in : is_changed_misread (InAssignment c) x l.bytes ≡ is_misread c x l.bytes (Assign a None)
  misread-in = ap (λ (k : Class Cell). is_misread c x l.bytes k) I.here

  -- it is misread if the line does not fit
  pub unfit-misread : (m : List ℕ) → m ≡ line_after c l.bytes a → fits_line l.bytes m ≡ false → is_changed_misread (InAssignment c) x l.bytes ≡ true
  unfit-misread m k e = misread-in ∙ ap (λ b. not (b && reads_as (assigned_after c a) (class_of x (line_after c l.bytes a)))) (ap (fits_line l.bytes) (sym k) ∙ e)
