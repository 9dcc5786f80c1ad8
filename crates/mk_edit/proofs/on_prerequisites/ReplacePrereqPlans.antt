-- A prerequisite in the place of another: its causes by what the code asks, and its plan.
use Rattle.std.proofs.Common.{◌≡◌, refl, sym, ap, ◌∙◌, subst, arith, ℕ, ◌+◌, ◌*◌, ◌<◌, ◌≤◌, not, List, [], ◌++◌, Bool, true, false, length, length-append, Option, Some, None, option_map}
use Rattle.std.specs.Prelude.{Ok, Err, nat_lt, slice_get}
use Rattle.mk_lines.specs.Limits.{max_text}
use Rattle.mk_lines.specs.PhysicalLines.{line_end, line_end_bytes}
use Rattle.mk_lines.specs.Lists.{concat}
use Rattle.mk_lines.specs.Cells.{Cell, joined_byte, line_cells}
use Rattle.mk_lines.specs.Pieces.{Replacement, new_bytes, old_bytes, old_cells, replacements}
use Rattle.mk_lines.specs.Words.{tokens}
use Rattle.mk_lines.proofs.on_units.TokenLemmas.{token_text-tokens}
use Rattle.mk_class.specs.Headers
use Rattle.mk_class.specs.LineParts.{normal_span, order_only_span}
use Rattle.mk_class.specs.Headers.{header_units}
use Rattle.mk_class.specs.Classes.{Class}
use Rattle.mk_class.specs.ClassedLines.{ClassedLine, classed_lines}
use Rattle.mk_class.specs.declared.rule.Header as header
use Rattle.mk_tree.specs.Documents.{IsFaithful, text_of}
use Rattle.mk_tree.specs.LocatedLines.{LocatedLine, located_text, size_of}
use Rattle.mk_tree.proofs.on_changes.Sizes.{size_of-text}
use Rattle.mk_tree.specs.LineTexts.{StandingLine}
use Rattle.mk_edit_language.specs.Addresses.{Rule}
use Rattle.mk_edit_language.specs.Edits.{ReplacePrereq, Edit, ChangePrereqs}
use Rattle.mk_edit_language.specs.Lengths.{bytes_put, bytes_taken}
use Rattle.mk_edit_language.specs.Stretches.{this_line}
use Rattle.mk_edit_language.specs.EditSpans.{spans_of, word_spans, where_found}
use Rattle.mk_edit_language.specs.Causes.{where_holds}
use Rattle.mk_edit_language.specs.LineCauses.{too_long}
use Rattle.mk_edit_language.specs.Refusals.{spans}
use Rattle.mk_edit_language.specs.RuleCauses.{absent, already, class_found, header_passes, is_prereq}
use Rattle.mk_edit_language.specs.WordPieces.{kept, renamed_words, replace_pieces}
use Rattle.mk_edit_language.specs.declared.refusal.Refusal.TheVariants.{Absent, Already, TooLong}
use Rattle.mk_edit_language.proofs.on_prerequisites.HeaderEdits.{header_pieces-whole, kept-old, word_spans-header}
use Rattle.mk_edit_language.proofs.on_edits.RisingSpanLemmas.{Rise-pieces}
use Rattle.mk_edit_language.proofs.on_renames.WordsRenamed.{renamed-old_cells}
use Rattle.mk_edit_parts.specs.Found.{IsAddressed, IsPlaceOf}
use Rattle.mk_edit_parts.specs.RenamedRanges.{bytes_in, part_ranges}
use Rattle.mk_edit_parts.specs.ReplacedPrerequisites.{prerequisite_ranges}
use Rattle.mk_edit_parts.specs.SeenHeaders.{IsHeaderSeen, IsHeaderAt, IsRuleLine}
use Rattle.mk_edit_parts.specs.declared.seek.Found.{Found}
use Rattle.mk_edit_parts.proofs.CauseLemmas.{passed, holds}
use Rattle.mk_edit_parts.proofs.on_prerequisites.ReplacedPrerequisites.{prerequisite-pieces}
use Rattle.mk_edit.specs.PrerequisiteEdits.{IsChangeOfPrereqs}
use Rattle.mk_edit.proofs.on_plans.CausePlans.{long-said}
use Rattle.mk_edit.proofs.on_plans.LinePlans.{IsReplaced}
use Rattle.mk_edit.proofs.on_plans.RangePlans.{line-short}
use Rattle.mk_edit_parts.proofs.on_new_lines.NewLinePlaces.{found-place}
use Rattle.mk_edit.proofs.on_prerequisites.HeaderPlaces.{rule-line, rule-class, header-seen}
use Rattle.mk_edit.proofs.on_prerequisites.WordPlans.{IsWordEdit, words-replaced, pieces-whole}
use Rattle.mk_edit.proofs.on_recipes.OwnCauses.{own-refused, own-accepted}
use Rattle.mk_edit_parts.proofs.on_recipes.RulePlaces.{IsRuleAt, rule-at}
use Rattle.mk_edit.proofs.on_renaming.SizesOfTexts.{put-moved, taken-moved}
use Rattle.mk_edit.proofs.on_renaming.SizesOfWords.{cells-few, part-count, put-replacing, taken-replacing, taken-within}

-- ---- the bytes that the edit takes out and puts in

replace-taken : (o n : List ℕ) (l : LocatedLine) (at : header.Header) (h : Headers.Header Cell) (base : ℕ) → IsHeaderSeen l at h → bytes_taken (replacements base (replace_pieces o n h)) ≡ bytes_in (prerequisite_ranges o l at)
replace-taken o n l at h base S = taken-moved base 0 (replace_pieces o n h) ∙ (ap bytes_taken (sym (prerequisite-pieces l at h o n S)) ∙ taken-replacing n (prerequisite_ranges o l at))

replace-put : (o n : List ℕ) (l : LocatedLine) (at : header.Header) (h : Headers.Header Cell) (base : ℕ) → IsHeaderSeen l at h → bytes_put (replacements base (replace_pieces o n h)) ≡ length (prerequisite_ranges o l at) * length n
replace-put o n l at h base S = put-moved base 0 (replace_pieces o n h) ∙ (ap bytes_put (sym (prerequisite-pieces l at h o n S)) ∙ put-replacing n (prerequisite_ranges o l at))

-- each of the two lists has no more words than the line has bytes
prereqs-few : (o : List ℕ) (l : LocatedLine) (at : header.Header) → length (prerequisite_ranges o l at) ≤ 2 * length l.bytes
prereqs-few o l at =
    let cs = line_cells l.bytes in
    let N = part_ranges cs o (normal_span at) in
    let O = part_ranges cs o (order_only_span at) in
    omega (arith, cells-few l.bytes, length-append N O, part-count cs o (normal_span at), part-count cs o (order_only_span at))

-- ---- the whole

-- whether the text would be too long
abbrev is_long : (old new : List ℕ) → List LocatedLine → LocatedLine → header.Header → Bool
is_long o n ls l at = nat_lt (max_text + bytes_in (prerequisite_ranges o l at)) (size_of ls + length (prerequisite_ranges o l at) * length n)

-- What the code asks of a document if a prerequisite goes in the place of another, and what follows from the answers.
pub record IsReplacePrereqOf (o n : List ℕ) (e : Edit) (ls : List LocatedLine) (f : Found) : Type 0 where
  pub parts : Headers.Header Cell
  pub within : f.at < length ls
  pub place : IsPlaceOf ls f
  pub rule : (l : LocatedLine) → Some l ≡ slice_get ls f.at → IsRuleLine l
  pub seen : (l : LocatedLine) (at : header.Header) → Some l ≡ slice_get ls f.at → IsHeaderAt l at → IsHeaderSeen l at parts
  pub few_words : (l : LocatedLine) (at : header.Header) → size_of ls ≤ max_text → Some l ≡ slice_get ls f.at → length (prerequisite_ranges o l at) ≤ 2 * max_text
  pub few : (l : LocatedLine) (at : header.Header) → size_of ls ≤ max_text → Some l ≡ slice_get ls f.at → IsHeaderAt l at → bytes_in (prerequisite_ranges o l at) ≤ max_text
  pub missing : false ≡ is_prereq o parts → spans (located_text ls) e ≡ Err Absent
  pub listed : true ≡ is_prereq o parts → true ≡ is_prereq n parts → spans (located_text ls) e ≡ Err Already
  pub long : (l : LocatedLine) (at : header.Header) → true ≡ is_prereq o parts → false ≡ is_prereq n parts → Some l ≡ slice_get ls f.at → IsHeaderAt l at → is_long o n ls l at ≡ true → spans (located_text ls) e ≡ Err TooLong
  pub accepted : (l : LocatedLine) (at : header.Header) → true ≡ is_prereq o parts → false ≡ is_prereq n parts → Some l ≡ slice_get ls f.at → IsHeaderAt l at → is_long o n ls l at ≡ false
      → spans (located_text ls) e ≡ Ok (spans_of (located_text ls) (classed_lines (located_text ls)) e)
  pub replaced : (l : LocatedLine) (at : header.Header) (m : List ℕ) → true ≡ is_prereq o parts → false ≡ is_prereq n parts → Some l ≡ slice_get ls f.at → IsHeaderAt l at → is_long o n ls l at ≡ false
      → m ≡ new_bytes (replace_pieces o n parts) ++ line_end_bytes (line_end l.bytes) → IsReplaced e ls f.at m

replace_prereq : (nth : Option ℕ) (g o n : List ℕ) (ls : List LocatedLine) (f : Found) → IsFaithful ls → IsAddressed (ChangePrereqs nth g (ReplacePrereq o n)) ls f → IsReplacePrereqOf o n (ChangePrereqs nth g (ReplacePrereq o n)) ls f
replace_prereq nth g o n ls f h A = record {
  parts = x;
  within = R.line.within;
  place = found-place ls (Rule nth g) f A.meant;
  rule = λ l k. rule-class ls nth g f l R k;
  seen = λ l at k p. header-seen ls nth g f l at R k p;
  few_words = λ l at z k. omega (arith, z, prereqs-few o l at, line-short ls f.at l k);
  few = λ l at z k p. few-bytes l at z k p;
  missing = λ q. own-refused e ls f Absent A (holds (absent lines e) _ Absent (asked-old false q));
  listed = λ q r. own-refused e ls f Already A (passed (absent lines e) _ (Some Already) (asked-old true q) (holds (already lines e) _ Already (asked-new true r)));
  long = λ l at q r k p z.
      own-refused e ls f TooLong A
      (passed (absent lines e) _ (Some TooLong) (asked-old true q)
      (passed (already lines e) _ (Some TooLong) (asked-new false r)
      (holds (too_long t rs) [] TooLong (decided l at k p ∙ ap (λ b. where_holds b TooLong) z))));
  accepted = taken;
  replaced = λ l at m q r k p z i. words-replaced e ls f.at l (replace_pieces o n x) m h (edit l at k p) (taken l at q r k p z) i;
}
  where
    t : List ℕ
    t = located_text ls

    lines : List ClassedLine
    lines = classed_lines t

    e : Edit
    e = ChangePrereqs nth g (ReplacePrereq o n)

    rs : List Replacement
    rs = spans_of t lines e

    R : IsRuleAt ls nth g f
    R = rule-at ls nth g f h A.is_there A.is_one A.meant

    s : StandingLine
    s = R.spot

    x : Headers.Header Cell
    x = R.header

    asked-old : (b : Bool) → b ≡ is_prereq o x → absent lines e ≡ where_holds (not b) Absent
    asked-old b q =
        ap (λ (y : Option StandingLine). where_holds (not (header_passes (is_prereq o) (class_found y))) Absent) R.found_is
        ∙ (ap (λ (k : Class Cell). where_holds (not (header_passes (is_prereq o) (Some k))) Absent) R.class_is ∙ ap (λ b. where_holds (not b) Absent) (sym q))

    asked-new : (b : Bool) → b ≡ is_prereq n x → already lines e ≡ where_holds b Already
    asked-new b q =
        ap (λ (y : Option StandingLine). where_holds (header_passes (is_prereq n) (class_found y)) Already) R.found_is
        ∙ (ap (λ (k : Class Cell). where_holds (header_passes (is_prereq n) (Some k)) Already) R.class_is ∙ ap (λ b. where_holds b Already) (sym q))

    spans_are : rs ≡ replacements (length (text_of s.above)) (replace_pieces o n x)
    spans_are = ap (where_found (word_spans (replace_pieces o n))) R.found_is ∙ word_spans-header (replace_pieces o n) s x R.class_is

    decided : (l : LocatedLine) (at : header.Header) → Some l ≡ slice_get ls f.at → IsHeaderAt l at → too_long t rs ≡ where_holds (is_long o n ls l at) TooLong
    decided l at k p =
        let S = header-seen ls nth g f l at R k p in
        let base = length (text_of s.above) in
        long-said t e (bytes_in (prerequisite_ranges o l at)) (length (prerequisite_ranges o l at) * length n) (ap bytes_taken spans_are ∙ replace-taken o n l at x base S) (ap bytes_put spans_are ∙ replace-put o n l at x base S)
        ∙ ap (λ m. where_holds (nat_lt (max_text + bytes_in (prerequisite_ranges o l at)) (m + length (prerequisite_ranges o l at) * length n)) TooLong) (sym (size_of-text ls))

    taken : (l : LocatedLine) (at : header.Header) → true ≡ is_prereq o x → false ≡ is_prereq n x → Some l ≡ slice_get ls f.at → IsHeaderAt l at → is_long o n ls l at ≡ false → spans t e ≡ Ok rs
    taken l at q r k p z =
        own-accepted e ls f A refl
        (passed (absent lines e) _ None (asked-old true q)
        (passed (already lines e) _ None (asked-new false r)
        (passed (too_long t rs) [] None (decided l at k p ∙ ap (λ b. where_holds b TooLong) z) refl)))

    words-old : (us : List (List Cell)) → old_cells (renamed_words o n us) ≡ concat us
    words-old us = renamed-old_cells o n (tokens joined_byte us) ∙ token_text-tokens joined_byte us

    old : old_cells (replace_pieces o n x) ≡ concat (header_units x)
    old = header_pieces-whole x (kept x.targets) (renamed_words o n x.normal) (renamed_words o n x.order_only) (kept-old x.targets) (words-old x.normal) (words-old x.order_only)

    whole : (l : LocatedLine) (at : header.Header) → Some l ≡ slice_get ls f.at → IsHeaderAt l at → l.bytes ≡ old_bytes (replace_pieces o n x) ++ line_end_bytes (line_end l.bytes)
    whole l at k p = pieces-whole l at x (replace_pieces o n x) (header-seen ls nth g f l at R k p) old

    edit : (l : LocatedLine) (at : header.Header) → Some l ≡ slice_get ls f.at → IsHeaderAt l at → IsWordEdit e ls f.at l (replace_pieces o n x)
    edit l at k p = record {
      spot = s;
      place_is = R.place_is;
      touched_is = ap (option_map this_line) R.found_is;
      left_is = λ rs. refl;
      spans_are = spans_are;
      whole = sym (ap (λ (z : LocatedLine). z.bytes) (rule-line ls nth g f l R k)) ∙ whole l at k p;
    }

    -- the old words are a part of the line
    few-bytes : (l : LocatedLine) (at : header.Header) → size_of ls ≤ max_text → Some l ≡ slice_get ls f.at → IsHeaderAt l at → bytes_in (prerequisite_ranges o l at) ≤ max_text
    few-bytes l at z k p =
        let ps = replace_pieces o n x in
        omega (
          arith,
          z,
          replace-taken o n l at x 0 (header-seen ls nth g f l at R k p),
          taken-within 0 (0 + length (old_bytes ps)) (replacements 0 ps) (Rise-pieces 0 ps),
          ap length (whole l at k p),
          length-append (old_bytes ps) (line_end_bytes (line_end l.bytes)),
          line-short ls f.at l k,
        )

pub replace_prereq-of : (o n : List ℕ) (e : Edit) (ls : List LocatedLine) (f : Found) → IsFaithful ls → IsChangeOfPrereqs (ReplacePrereq o n) e → IsAddressed e ls f → IsReplacePrereqOf o n e ls f
replace_prereq-of o n e ls f h K A = subst (λ z. IsReplacePrereqOf o n z ls f) (sym K.is) (replace_prereq K.nth K.target o n ls f h (subst (λ z. IsAddressed z ls f) K.is A))
