-- A new line that can stand at its place: the other lines stay.
use Rattle.std.proofs.Common.{◌≡◌, ap, ◌∙◌, subst, ℕ, List, [], ◌∷◌, ◌++◌, true, false, not, ◌&&◌, Option, Some}
use Rattle.mk_lines.proofs.on_lists.BoolLemmas.{or-left_false, or-right_false}
use Rattle.mk_lines.specs.PhysicalLines.{line_end_bytes, file_line_end}
use Rattle.mk_lines.specs.LogicalLines.{is_open}
use Rattle.mk_lines.proofs.on_lines.LineEndAdded.{IsEnded}
use Rattle.mk_lines.specs.Pieces.{Replacement, replaced}
use Rattle.mk_lines.specs.Cells.{Cell}
use Rattle.mk_class.specs.ListTests.{is_empty, last_passes}
use Rattle.mk_class.specs.Classes.{Class, is_conditional}
use Rattle.mk_class.specs.Contexts.{context_after, flag_after}
use Rattle.mk_class.specs.ClassTable.{class_of}
use Rattle.mk_class.specs.ClassedLines.{classed_lines}
use Rattle.mk_class.specs.declared.context.RuleFlag.{RuleFlag}
use Rattle.mk_tree.specs.Documents.{text_of, context_of}
use Rattle.mk_tree.specs.Items.{Item, items_of_line}
use Rattle.mk_tree.specs.Leaning.{leans, AgreeButForFlag}
use Rattle.mk_tree.specs.NewLineEnds.{missing_line_end, above_ended}
use Rattle.mk_tree.proofs.on_changes.NewLineLemmas.{file_line_end-some, line-added}
use Rattle.mk_tree.proofs.on_changes.RunsReplaced.{text-inserted}
use Rattle.mk_edit_language.specs.Edits.{Edit}
use Rattle.mk_edit_language.specs.Stretches.{Stretch, insertion}
use Rattle.mk_edit_language.specs.NewLines.{new_text, new_line_span}
use Rattle.mk_edit_language.specs.LineCauses.{follows_open_line, flag_below_new, new_line_leans, switched_leans}
use Rattle.mk_edit_language.proofs.on_edits.Accepted.{IsAccepted, where_holds-none}

-- a text, with the file's line end, that can stand as a line of a class at a stretch
pub record StandsAt (t : List ℕ) (s : Stretch) (x : List ℕ) (k : Class Cell) : Type 0 where
  pub whole : classed_lines t ≡ s.above ++ s.below
  pub not_open : (is_empty s.below && last_passes (λ l. is_open l.bytes) s.above) ≡ false
  pub ended : IsEnded x (file_line_end t)
  pub class : class_of (context_of s.above) (x ++ line_end_bytes (file_line_end t)) ≡ k
  pub agrees : AgreeButForFlag (context_of s.above) (context_after (context_of s.above) k)
  pub not_leaning : leans (context_of s.above).prefix (flag_after (context_of s.above).flag k) (context_of s.above).flag s.below ≡ false

-- The new line of an edit that can stand at its place. It is of no conditional, and reads as one item.
pub record NewStands (t : List ℕ) (e : Edit) (i : Item) : Type 0 where
  pub stretch : Stretch
  pub found_is : insertion (classed_lines t) e ≡ Some stretch
  pub text : List ℕ
  pub text_is : new_text (context_of stretch.above).prefix e ≡ text
  pub class : Class Cell
  pub plain : not (is_conditional class) ≡ true
  pub item : items_of_line class (text ++ line_end_bytes (file_line_end t)) ≡ i ∷ []
  pub stands : StandsAt t stretch text class

-- that it can, of an accepted edit: what its place, its text and its class say
pub accepted-stands : (t : List ℕ) (e : Edit) (rs : List Replacement) (s : Stretch) (x : List ℕ) (k : Class Cell) → IsAccepted t e rs → insertion (classed_lines t) e ≡ Some s → classed_lines t ≡ s.above ++ s.below
    → IsEnded x (file_line_end t) → class_of (context_of s.above) (x ++ line_end_bytes (file_line_end t)) ≡ k → AgreeButForFlag (context_of s.above) (context_after (context_of s.above) k)
    → flag_below_new e ≡ flag_after (context_of s.above).flag k → StandsAt t s x k
accepted-stands t e rs s x k A i w n c g f =
    let free : new_line_leans e (Some s) ≡ false = subst (λ (z : Option Stretch). new_line_leans e z ≡ false) i (or-left_false _ _ (or-right_false (switched_leans (classed_lines t) e) _ (where_holds-none _ _ A.not_leaning))) in
    record {
      whole = w;
      not_open = subst (λ (z : Option Stretch). follows_open_line z ≡ false) i (where_holds-none _ _ A.line_closed);
      ended = n;
      class = c;
      agrees = g;
      not_leaning = subst (λ (z : RuleFlag). leans (context_of s.above).prefix z (context_of s.above).flag s.below ≡ false) f free;
    }

-- the line stands among the others, which keep their classes; if no line is below, the last line above gets a line end if it has
-- none
pub stands-lines : (t : List ℕ) (e : Edit) (s : Stretch) (x : List ℕ) (k : Class Cell) → new_text (context_of s.above).prefix e ≡ x → StandsAt t s x k
    → classed_lines (replaced 0 t (new_line_span t e s)) ≡ above_ended (file_line_end t) s.above s.below ++ record { bytes = x ++ line_end_bytes (file_line_end t); class = k } ∷ s.below
stands-lines t e s x k n h =
    let E = file_line_end t in
    let put : List ℕ → List ℕ = λ z. missing_line_end E s.above s.below ++ (z ++ line_end_bytes E) in
    ap classed_lines (text-inserted t s.above s.below (put (new_text (context_of s.above).prefix e)) h.whole)
    ∙ (ap (λ z. classed_lines (text_of s.above ++ (put z ++ text_of s.below))) n
    ∙ line-added t s.above s.below x E k h.whole h.not_open (file_line_end-some t) h.ended h.class h.agrees h.not_leaning)
