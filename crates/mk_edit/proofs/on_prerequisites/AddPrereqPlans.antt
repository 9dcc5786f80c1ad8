-- A new prerequisite: its causes by what the code asks, and its plan.
use Rattle.std.proofs.Common.{◌≡◌, refl, sym, ap, ◌∙◌, subst, arith, ℕ, ◌+◌, ◌<◌, ◌≤◌, List, [], ◌∷◌, ◌++◌, Bool, true, false, if◌then◌else◌, length, length-append, take, drop, Option, Some, None, option_map}
use Rattle.std.specs.Prelude.{Ok, Err, slice_get, nat_lt, codes}
use Rattle.std.proofs.lemmas.Bool.{lt-ltb, le-ltb}
use Rattle.std.proofs.lemmas.List.{take-append-drop, length-take-le}
use Rattle.mk_lines.specs.Limits.{max_text}
use Rattle.mk_lines.specs.PhysicalLines.{line_end, line_end_bytes}
use Rattle.mk_lines.specs.Lists.{concat}
use Rattle.mk_lines.specs.Cells.{Cell, line_cells, raw_text}
use Rattle.mk_lines.specs.Pieces.{Replacement, new_bytes, old_bytes, old_cells, replacements}
use Rattle.mk_lines.proofs.on_cells.CellLemmas.{raw_text-append}
use Rattle.mk_class.specs.ListTests.{is_empty}
use Rattle.mk_class.specs.Headers
use Rattle.mk_class.specs.Headers.{header_units}
use Rattle.mk_class.specs.Classes.{Class}
use Rattle.mk_class.specs.ClassedLines.{ClassedLine, classed_lines}
use Rattle.mk_class.specs.declared.rule.Header as header
use Rattle.mk_tree.specs.Documents.{IsFaithful, text_of}
use Rattle.mk_tree.specs.LocatedLines.{LocatedLine, located_text, size_of, text_of_line}
use Rattle.mk_tree.proofs.on_changes.Sizes.{size_of-text}
use Rattle.mk_tree.specs.LineTexts.{StandingLine}
use Rattle.mk_edit_language.specs.Addresses.{Rule}
use Rattle.mk_edit_language.specs.Edits.{AddPrereq, Edit, ChangePrereqs}
use Rattle.mk_edit_language.specs.Lengths.{bytes_put, bytes_taken}
use Rattle.mk_edit_language.specs.Stretches.{this_line}
use Rattle.mk_edit_language.specs.EditSpans.{spans_of, word_spans, where_found}
use Rattle.mk_edit_language.specs.Causes.{where_holds}
use Rattle.mk_edit_language.specs.LineCauses.{too_long}
use Rattle.mk_edit_language.specs.Refusals.{spans}
use Rattle.mk_edit_language.specs.RuleCauses.{already, class_found, has_prereq, header_passes}
use Rattle.mk_edit_language.specs.WordPieces.{header_pieces, kept, put_last, prerequisite_text, add_pieces}
use Rattle.mk_edit_language.specs.declared.refusal.Refusal.TheVariants.{Already, TooLong}
use Rattle.mk_edit_language.proofs.on_prerequisites.HeaderEdits.{header_pieces-whole, kept-old, word_spans-header}
use Rattle.mk_edit_language.proofs.on_prerequisites.AddPrereqLemmas.{put_last-old}
use Rattle.mk_edit_parts.specs.Found.{IsAddressed, IsPlaceOf}
use Rattle.mk_edit_parts.specs.NewPrerequisites.{after_new, before_new, new_word_text, offset_of_new}
use Rattle.mk_edit.specs.PrerequisiteEdits.{IsChangeOfPrereqs}
use Rattle.mk_edit_parts.specs.SeenHeaders.{IsHeaderSeen, IsHeaderAt, IsRuleLine}
use Rattle.mk_edit_parts.specs.WordCuts.{raw_between}
use Rattle.mk_edit_parts.specs.declared.seek.Found.{Found}
use Rattle.mk_edit_parts.proofs.CauseLemmas.{passed, holds}
use Rattle.mk_edit.proofs.on_plans.CausePlans.{long-said}
use Rattle.mk_edit.proofs.on_plans.LinePlans.{IsReplaced}
use Rattle.mk_edit_parts.proofs.on_new_lines.NewLinePlaces.{found-place}
use Rattle.mk_edit_parts.proofs.on_prerequisites.HeaderBytes.{header-with, new-within, raw-front}
use Rattle.mk_edit.proofs.on_prerequisites.HeaderPlaces.{rule-line, rule-class, header-seen}
use Rattle.mk_edit.proofs.on_prerequisites.WordPlans.{IsWordEdit, words-replaced, pieces-whole, pieces-length}
use Rattle.mk_edit.proofs.on_recipes.OwnCauses.{own-refused, own-accepted}
use Rattle.mk_edit_parts.proofs.on_recipes.RulePlaces.{IsRuleAt, rule-at}

-- ---- the pieces

-- the line's cells before
add-old : (order : Bool) (w : List ℕ) (h : Headers.Header Cell) → old_cells (add_pieces order w h) ≡ concat (header_units h)
add-old false w h = header_pieces-whole h (kept h.targets) (put_last (prerequisite_text w h) h.normal) (kept h.order_only) (kept-old h.targets) (put_last-old (prerequisite_text w h) h.normal) (kept-old h.order_only)
add-old true w h = go (is_empty h.bar)
  where
    go : (b : Bool) → old_cells (if b then header_pieces h (kept h.targets) (put_last (codes " | " ++ w) h.normal) (kept h.order_only) else header_pieces h (kept h.targets) (kept h.normal) (put_last (32 ∷ w) h.order_only)) ≡ concat (header_units h)
    go true = header_pieces-whole h (kept h.targets) (put_last (codes " | " ++ w) h.normal) (kept h.order_only) (kept-old h.targets) (put_last-old (codes " | " ++ w) h.normal) (kept-old h.order_only)
    go false = header_pieces-whole h (kept h.targets) (kept h.normal) (put_last (32 ∷ w) h.order_only) (kept-old h.targets) (kept-old h.normal) (put_last-old (32 ∷ w) h.order_only)

-- what a line gets by a new prerequisite
abbrev line_text_new : (order : Bool) → (word : List ℕ) → LocatedLine → header.Header → List ℕ
line_text_new order w l at = new_word_text order (offset_of_new order (text_of_line l) at) w at

-- the word is no longer than that
pub word-short : (order : Bool) (w : List ℕ) (l : LocatedLine) (at : header.Header) → length w ≤ length (line_text_new order w l at)
word-short order w l at =
    let a = after_new order (offset_of_new order (text_of_line l) at) at in
    omega (arith, length-append (before_new order at) (w ++ a), length-append w a)

-- the line is so much longer
add-longer : (order : Bool) (w : List ℕ) (l : LocatedLine) (at : header.Header) (h : Headers.Header Cell) (base : ℕ) → IsHeaderSeen l at h
    → bytes_put (replacements base (add_pieces order w h)) ≡ bytes_taken (replacements base (add_pieces order w h)) + length (line_text_new order w l at)
add-longer order w l at h base S =
    let ps = add_pieces order w h in
    let cs = line_cells l.bytes in
    let E = line_end_bytes (line_end l.bytes) in
    let p = offset_of_new order (text_of_line l) at in
    let b = before_new order at in
    let a = after_new order p at in
    let X = take p cs in
    let Y = drop p cs in
    let cut : cs ≡ X ++ Y = sym (take-append-drop p cs) in
    let place : p ≡ length X = sym (length-take-le p cs (new-within order l at h S)) in
    let front = raw-front cs X Y p cut place in
    let new = ap length (header-with order l at h w E S) in
    let made : length (raw_text X) + (length b + (length w + (length a + (length (raw_text Y) + length E)))) ≡ length (new_bytes ps) + length E =
    omega (
      arith,
      new,
      ap length front,
      length-append (new_bytes ps) E,
      length-append (raw_text Y) E,
      length-append a (raw_text Y ++ E),
      length-append w (a ++ (raw_text Y ++ E)),
      length-append b (w ++ (a ++ (raw_text Y ++ E))),
      length-append (raw_between cs 0 p) (b ++ (w ++ (a ++ (raw_text Y ++ E)))),
    ) in
    let whole = ap length (pieces-whole l at h ps S (add-old order w h)) in
    let own = ap length (S.whole ∙ ap (λ z. raw_text z ++ E) (sym S.cells_are ∙ cut)) in
    let text : length (line_text_new order w l at) ≡ length b + (length w + length a) = length-append b (w ++ a) ∙ ap (λ n. length b + n) (length-append w a) in
    omega (arith, made, whole, own, text, pieces-length base ps, length-append (old_bytes ps) E, length-append (raw_text (X ++ Y)) E, ap length (raw_text-append X Y), length-append (raw_text X) (raw_text Y))

-- ---- the whole

-- What the code asks of a document if a rule gets a prerequisite, and what follows from the answers.
pub record IsAddPrereqOf (order : Bool) (w : List ℕ) (e : Edit) (ls : List LocatedLine) (f : Found) : Type 0 where
  pub parts : Headers.Header Cell
  pub within : f.at < length ls
  pub place : IsPlaceOf ls f
  pub rule : (l : LocatedLine) → Some l ≡ slice_get ls f.at → IsRuleLine l
  pub seen : (l : LocatedLine) (at : header.Header) → Some l ≡ slice_get ls f.at → IsHeaderAt l at → IsHeaderSeen l at parts
  pub listed : true ≡ has_prereq (AddPrereq order w) parts → spans (located_text ls) e ≡ Err Already
  pub long : (l : LocatedLine) (at : header.Header) → false ≡ has_prereq (AddPrereq order w) parts → Some l ≡ slice_get ls f.at → IsHeaderAt l at → max_text < size_of ls + length (line_text_new order w l at) → spans (located_text ls) e ≡ Err TooLong
  pub accepted : (l : LocatedLine) (at : header.Header) → false ≡ has_prereq (AddPrereq order w) parts → Some l ≡ slice_get ls f.at → IsHeaderAt l at → size_of ls + length (line_text_new order w l at) ≤ max_text
      → spans (located_text ls) e ≡ Ok (spans_of (located_text ls) (classed_lines (located_text ls)) e)
  pub replaced : (l : LocatedLine) (at : header.Header) (m : List ℕ) → false ≡ has_prereq (AddPrereq order w) parts → Some l ≡ slice_get ls f.at → IsHeaderAt l at → size_of ls + length (line_text_new order w l at) ≤ max_text
      → m ≡ new_bytes (add_pieces order w parts) ++ line_end_bytes (line_end l.bytes) → IsReplaced e ls f.at m

-- whether the word is in its list decides the cause
already-asked : (order : Bool) (nth : Option ℕ) (g w : List ℕ) (ls : List LocatedLine) (f : Found) (b : Bool) → (R : IsRuleAt ls nth g f) → b ≡ has_prereq (AddPrereq order w) R.header
    → already (classed_lines (located_text ls)) (ChangePrereqs nth g (AddPrereq order w)) ≡ where_holds b Already
already-asked order nth g w ls f b R q =
    let test = has_prereq (AddPrereq order w) in
    ap (λ (o : Option StandingLine). where_holds (header_passes test (class_found o)) Already) R.found_is
    ∙ (ap (λ (k : Class Cell). where_holds (header_passes test (Some k)) Already) R.class_is ∙ ap (λ b. where_holds b Already) (sym q))

add_prereq : (order : Bool) (nth : Option ℕ) (g w : List ℕ) (ls : List LocatedLine) (f : Found) → IsFaithful ls → IsAddressed (ChangePrereqs nth g (AddPrereq order w)) ls f → IsAddPrereqOf order w (ChangePrereqs nth g (AddPrereq order w)) ls f
add_prereq order nth g w ls f h A = record {
  parts = x;
  within = R.line.within;
  place = found-place ls (Rule nth g) f A.meant;
  rule = λ l k. rule-class ls nth g f l R k;
  seen = λ l at k p. header-seen ls nth g f l at R k p;
  listed = λ q. own-refused e ls f Already A (holds (already lines e) _ Already (already-asked order nth g w ls f true R q));
  long = λ l at q k p z.
      own-refused e ls f TooLong A
      (passed (already lines e) _ (Some TooLong) (already-asked order nth g w ls f false R q)
      (holds (too_long t (spans_of t lines e)) [] TooLong (decided ∙ ap (λ b. where_holds b TooLong) (lt-ltb (max_text + bytes_taken rs) (length t + bytes_put rs) (omega (arith, z, longer l at k p, size_of-text ls))))));
  accepted = taken;
  replaced = λ l at m q k p z i. words-replaced e ls f.at l (add_pieces order w x) m h (edit l at k p) (taken l at q k p z) i;
}
  where
    t : List ℕ
    t = located_text ls

    lines : List ClassedLine
    lines = classed_lines t

    e : Edit
    e = ChangePrereqs nth g (AddPrereq order w)

    rs : List Replacement
    rs = spans_of t lines e

    R : IsRuleAt ls nth g f
    R = rule-at ls nth g f h A.is_there A.is_one A.meant

    s : StandingLine
    s = R.spot

    x : Headers.Header Cell
    x = R.header

    spans_are : rs ≡ replacements (length (text_of s.above)) (add_pieces order w x)
    spans_are = ap (where_found (word_spans (add_pieces order w))) R.found_is ∙ word_spans-header (add_pieces order w) s x R.class_is

    longer : (l : LocatedLine) (at : header.Header) → Some l ≡ slice_get ls f.at → IsHeaderAt l at → bytes_put rs ≡ bytes_taken rs + length (line_text_new order w l at)
    longer l at k p =
        ap bytes_put spans_are ∙ (add-longer order w l at x (length (text_of s.above)) (header-seen ls nth g f l at R k p) ∙ ap (λ z. bytes_taken z + length (line_text_new order w l at)) (sym spans_are))

    decided : too_long t rs ≡ where_holds (nat_lt (max_text + bytes_taken rs) (length t + bytes_put rs)) TooLong
    decided = long-said t e (bytes_taken rs) (bytes_put rs) refl refl

    taken : (l : LocatedLine) (at : header.Header) → false ≡ has_prereq (AddPrereq order w) x → Some l ≡ slice_get ls f.at → IsHeaderAt l at → size_of ls + length (line_text_new order w l at) ≤ max_text → spans t e ≡ Ok rs
    taken l at q k p z =
        own-accepted e ls f A refl
        (passed (already lines e) _ None (already-asked order nth g w ls f false R q)
        (passed (too_long t rs) [] None (decided ∙ ap (λ b. where_holds b TooLong) (le-ltb (max_text + bytes_taken rs) (length t + bytes_put rs) (omega (arith, z, longer l at k p, size_of-text ls)))) refl))

    edit : (l : LocatedLine) (at : header.Header) → Some l ≡ slice_get ls f.at → IsHeaderAt l at → IsWordEdit e ls f.at l (add_pieces order w x)
    edit l at k p = record {
      spot = s;
      place_is = R.place_is;
      touched_is = ap (option_map this_line) R.found_is;
      left_is = λ rs. refl;
      spans_are = spans_are;
      whole = sym (ap (λ (z : LocatedLine). z.bytes) (rule-line ls nth g f l R k)) ∙ pieces-whole l at x (add_pieces order w x) (header-seen ls nth g f l at R k p) (add-old order w x);
    }

pub add_prereq-of : (order : Bool) (w : List ℕ) (e : Edit) (ls : List LocatedLine) (f : Found) → IsFaithful ls → IsChangeOfPrereqs (AddPrereq order w) e → IsAddressed e ls f → IsAddPrereqOf order w e ls f
add_prereq-of order w e ls f h K A = subst (λ z. IsAddPrereqOf order w z ls f) (sym K.is) (add_prereq order K.nth K.target w ls f h (subst (λ z. IsAddressed z ls f) K.is A))
