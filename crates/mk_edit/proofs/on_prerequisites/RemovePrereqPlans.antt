-- A prerequisite less: its causes by what the code asks, and its plan.
use Rattle.std.proofs.Common.{◌≡◌, refl, sym, ap, ◌∙◌, subst, arith, ℕ, ◌<◌, ◌≤◌, not, List, [], ◌∷◌, ◌++◌, Bool, true, false, if◌then◌else◌, length, Option, Some, None, option_map}
use Rattle.std.specs.Prelude.{Ok, Err, slice_get}
use Rattle.mk_lines.specs.Limits.{max_text}
use Rattle.mk_lines.specs.PhysicalLines.{line_end, line_end_bytes}
use Rattle.mk_lines.specs.Lists.{concat}
use Rattle.mk_lines.specs.Cells.{Cell, joined_byte}
use Rattle.mk_lines.specs.Pieces.{Keep, Replace, new_bytes, old_cells, replacements}
use Rattle.mk_lines.specs.Words.{Token, Gap, Word, tokens}
use Rattle.mk_class.specs.Headers
use Rattle.mk_class.specs.Headers.{header_units}
use Rattle.mk_class.specs.Classes.{Class}
use Rattle.mk_class.specs.ClassedLines.{ClassedLine, classed_lines}
use Rattle.mk_class.specs.declared.rule.Header as header
use Rattle.mk_tree.specs.Documents.{IsFaithful, text_of}
use Rattle.mk_tree.specs.LocatedLines.{LocatedLine, located_text, size_of}
use Rattle.mk_tree.proofs.on_changes.Sizes.{size_of-text}
use Rattle.mk_tree.specs.LineTexts.{StandingLine}
use Rattle.mk_edit_language.specs.Addresses.{Rule}
use Rattle.mk_edit_language.specs.Edits.{RemovePrereq, Edit, ChangePrereqs}
use Rattle.mk_edit_language.specs.Lengths.{bytes_put}
use Rattle.mk_edit_language.specs.Stretches.{this_line}
use Rattle.mk_edit_language.specs.EditSpans.{spans_of, word_spans, where_found}
use Rattle.mk_edit_language.specs.Causes.{where_holds}
use Rattle.mk_edit_language.specs.LineCauses.{too_long}
use Rattle.mk_edit_language.specs.Refusals.{spans}
use Rattle.mk_edit_language.specs.RuleCauses.{absent, class_found, has_prereq, header_passes}
use Rattle.mk_edit_language.specs.WordPieces.{kept, is_word_of, removed_tokens, removed_words, remove_pieces}
use Rattle.mk_edit_language.specs.declared.refusal.Refusal.TheVariants.{Absent}
use Rattle.mk_edit_language.proofs.on_prerequisites.HeaderEdits.{header_pieces-whole, kept-old, word_spans-header}
use Rattle.mk_edit_language.proofs.on_prerequisites.RemovePrereqLemmas.{removed-old}
use Rattle.mk_edit_parts.specs.Found.{IsAddressed, IsPlaceOf}
use Rattle.mk_edit.specs.PrerequisiteEdits.{IsChangeOfPrereqs}
use Rattle.mk_edit_parts.specs.SeenHeaders.{IsHeaderSeen, IsHeaderAt, IsRuleLine}
use Rattle.mk_edit_parts.specs.declared.seek.Found.{Found}
use Rattle.mk_edit_parts.proofs.CauseLemmas.{passed, holds}
use Rattle.mk_edit.proofs.on_plans.CausePlans.{never-long}
use Rattle.mk_edit.proofs.on_plans.LinePlans.{IsReplaced}
use Rattle.mk_edit_parts.proofs.on_new_lines.NewLinePlaces.{found-place}
use Rattle.mk_edit.proofs.on_prerequisites.HeaderPlaces.{rule-line, rule-class, header-seen}
use Rattle.mk_edit.proofs.on_prerequisites.WordPlans.{IsWordEdit, words-replaced, pieces-whole, PutNothing, nothing-put, nothing-append}
use Rattle.mk_edit.proofs.on_recipes.OwnCauses.{own-refused, own-accepted}
use Rattle.mk_edit_parts.proofs.on_recipes.RulePlaces.{IsRuleAt, rule-at}

-- ---- no bytes are put in

removed-nothing : (w : List ℕ) (g : List Cell) (ts : List (Token Cell)) → PutNothing (removed_tokens w g ts)
removed-nothing w g [] = tt
removed-nothing w g (Gap u ∷ ts) = removed-nothing w (g ++ u) ts
removed-nothing w g (Word u ∷ ts) = go (is_word_of w u) (removed-nothing w [] ts)
  where
    go : (b : Bool) → PutNothing (removed_tokens w [] ts) → PutNothing ((if b then Replace (g ++ concat u) [] else Keep (g ++ concat u)) ∷ removed_tokens w [] ts)
    go true h = (refl, h)
    go false h = h

remove-nothing : (w : List ℕ) (h : Headers.Header Cell) → PutNothing (remove_pieces w h)
remove-nothing w h =
    nothing-append (removed_words w h.normal) _ (removed-nothing w [] (tokens joined_byte h.normal)) (nothing-append (removed_words w h.order_only) _ (removed-nothing w [] (tokens joined_byte h.order_only)) tt)

-- ---- the whole

-- What the code asks of a document if a prerequisite is taken out, and what follows from the answers.
pub record IsRemovePrereqOf (w : List ℕ) (e : Edit) (ls : List LocatedLine) (f : Found) : Type 0 where
  pub parts : Headers.Header Cell
  pub within : f.at < length ls
  pub place : IsPlaceOf ls f
  pub rule : (l : LocatedLine) → Some l ≡ slice_get ls f.at → IsRuleLine l
  pub seen : (l : LocatedLine) (at : header.Header) → Some l ≡ slice_get ls f.at → IsHeaderAt l at → IsHeaderSeen l at parts
  pub missing : false ≡ has_prereq (RemovePrereq w) parts → spans (located_text ls) e ≡ Err Absent
  pub accepted : size_of ls ≤ max_text → true ≡ has_prereq (RemovePrereq w) parts → spans (located_text ls) e ≡ Ok (spans_of (located_text ls) (classed_lines (located_text ls)) e)
  pub replaced : (l : LocatedLine) (at : header.Header) (m : List ℕ) → size_of ls ≤ max_text → true ≡ has_prereq (RemovePrereq w) parts → Some l ≡ slice_get ls f.at → IsHeaderAt l at
      → m ≡ new_bytes (remove_pieces w parts) ++ line_end_bytes (line_end l.bytes) → IsReplaced e ls f.at m

remove_prereq : (nth : Option ℕ) (g w : List ℕ) (ls : List LocatedLine) (f : Found) → IsFaithful ls → IsAddressed (ChangePrereqs nth g (RemovePrereq w)) ls f → IsRemovePrereqOf w (ChangePrereqs nth g (RemovePrereq w)) ls f
remove_prereq nth g w ls f h A = record {
  parts = x;
  within = R.line.within;
  place = found-place ls (Rule nth g) f A.meant;
  rule = λ l k. rule-class ls nth g f l R k;
  seen = λ l at k p. header-seen ls nth g f l at R k p;
  missing = λ q. own-refused e ls f Absent A (holds (absent lines e) _ Absent (asked false q));
  accepted = taken;
  replaced = λ l at m z q k p i. words-replaced e ls f.at l (remove_pieces w x) m h (edit l at k p) (taken z q) i;
}
  where
    t : List ℕ
    t = located_text ls

    lines : List ClassedLine
    lines = classed_lines t

    e : Edit
    e = ChangePrereqs nth g (RemovePrereq w)

    R : IsRuleAt ls nth g f
    R = rule-at ls nth g f h A.is_there A.is_one A.meant

    s : StandingLine
    s = R.spot

    x : Headers.Header Cell
    x = R.header

    test : Headers.Header Cell → Bool
    test = has_prereq (RemovePrereq w)

    asked : (b : Bool) → b ≡ has_prereq (RemovePrereq w) x → absent lines e ≡ where_holds (not b) Absent
    asked b q =
        ap (λ (o : Option StandingLine). where_holds (not (header_passes test (class_found o))) Absent) R.found_is
        ∙ (ap (λ (k : Class Cell). where_holds (not (header_passes test (Some k))) Absent) R.class_is ∙ ap (λ b. where_holds (not b) Absent) (sym q))

    spans_are : spans_of t lines e ≡ replacements (length (text_of s.above)) (remove_pieces w x)
    spans_are = ap (where_found (word_spans (remove_pieces w))) R.found_is ∙ word_spans-header (remove_pieces w) s x R.class_is

    short : size_of ls ≤ max_text → too_long t (spans_of t lines e) ≡ None
    short z = never-long t e (ap bytes_put spans_are ∙ nothing-put (length (text_of s.above)) (remove_pieces w x) (remove-nothing w x)) (omega (arith, size_of-text ls, z))

    taken : size_of ls ≤ max_text → true ≡ has_prereq (RemovePrereq w) x → spans t e ≡ Ok (spans_of t lines e)
    taken z q = own-accepted e ls f A refl (passed (absent lines e) _ None (asked true q) (passed (too_long t (spans_of t lines e)) [] None (short z) refl))

    old : old_cells (remove_pieces w x) ≡ concat (header_units x)
    old = header_pieces-whole x (kept x.targets) (removed_words w x.normal) (removed_words w x.order_only) (kept-old x.targets) (removed-old w x.normal) (removed-old w x.order_only)

    edit : (l : LocatedLine) (at : header.Header) → Some l ≡ slice_get ls f.at → IsHeaderAt l at → IsWordEdit e ls f.at l (remove_pieces w x)
    edit l at k p = record {
      spot = s;
      place_is = R.place_is;
      touched_is = ap (option_map this_line) R.found_is;
      left_is = λ rs. refl;
      spans_are = spans_are;
      whole = sym (ap (λ (z : LocatedLine). z.bytes) (rule-line ls nth g f l R k)) ∙ pieces-whole l at x (remove_pieces w x) (header-seen ls nth g f l at R k p) old;
    }

pub remove_prereq-of : (w : List ℕ) (e : Edit) (ls : List LocatedLine) (f : Found) → IsFaithful ls → IsChangeOfPrereqs (RemovePrereq w) e → IsAddressed e ls f → IsRemovePrereqOf w e ls f
remove_prereq-of w e ls f h K A = subst (λ z. IsRemovePrereqOf w z ls f) (sym K.is) (remove_prereq K.nth K.target w ls f h (subst (λ z. IsAddressed z ls f) K.is A))
