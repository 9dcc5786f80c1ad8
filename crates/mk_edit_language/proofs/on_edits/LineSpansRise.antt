-- The spans of a change of a line rise within the line and do not overlap, whatever the class of the line.
use Rattle.std.proofs.Common.{◌≡◌, refl, sym, ap, ◌∙◌, subst, arith, ℕ, zero, suc, List, [], ◌∷◌, ◌++◌, Bool, true, false, cond, take, drop, length, length-append, append_assoc, ◌+◌, ◌-◌, ◌≤◌}
use Rattle.std.proofs.lemmas.List.{append-nil, take-append-drop}
use Rattle.std.specs.Prelude.{codes}
use Rattle.mk_lines.specs.Lists.{concat, leading, trim_end, trailing}
use Rattle.mk_lines.proofs.on_lists.ListLemmas.{concat-append, leading-after_leading, trim_end-trailing}
use Rattle.mk_lines.specs.Cells.{Cell, joined_byte, raw_bytes, raw_text}
use Rattle.mk_lines.proofs.on_cells.CellLemmas.{raw_text-append}
use Rattle.mk_lines.specs.Words.{Token, Gap, Word, tokens, token_units, is_gap}
use Rattle.mk_lines.proofs.on_units.TokenLemmas.{token_text-tokens, token_units-tokens}
use Rattle.mk_lines.specs.Pieces.{Replacement, Piece, Keep, Replace, old_cells, old_bytes, replacements}
use Rattle.mk_lines.proofs.on_lists.PieceLemmas.{raw_text-old_cells, old_bytes-append}
use Rattle.mk_class.specs.ListTests.{is_empty}
use Rattle.mk_class.specs.Assignments.{Assignment, operator_length, before_value}
use Rattle.mk_class.specs.OperatorTexts.{operator_text}
use Rattle.mk_class.proofs.on_assignments.AssignmentsWhole.{assignment_units}
use Rattle.mk_class.specs.Headers
use Rattle.mk_class.specs.Headers.{header_units}
use Rattle.mk_class.specs.Classes.{Class}
use Rattle.mk_class.specs.Classes.Class.{Endef, Body, Recipe, Opaque, Blank, Comment, Assign, DefineHead, If, Else, Endif, Directive, TargetAssign, Rough, Header}
use Rattle.mk_class.specs.Contexts.{Context, start, context_after}
use Rattle.mk_class.specs.ClassedLines.{ClassedLine, classed_lines}
use Rattle.mk_class.specs.PartOffsets.{raw_width}
use Rattle.mk_tree.specs.Documents.{text_of, context_of}
use Rattle.mk_tree.proofs.on_documents.LinesInText.{line-in_text, AreClassed, AreClassed-class, AreClassed-tail, AreClassed-lines}
use Rattle.mk_tree.proofs.on_documents.DocumentLemmas.{text_of-classed_lines}
use Rattle.mk_tree.specs.LineTexts.{StandingLine}
use Rattle.mk_edit_language.specs.Edits.{ValueChange, Set, SetIf, Append, Add, Remove, LineChange, Prepend, ReplaceWord, InsertWord, Substitute, SetOperator, PrereqChange, AddPrereq, RemovePrereq, ReplacePrereq}
use Rattle.mk_edit_language.specs.ValueChanges.{value_start, set_value_span, append_value_span, assignment_spans, LedWord, led_words_among, led_words, staying, led_units, from_first_word, remove_word_pieces, remove_word_spans, is_class_changed, change_spans, changed_line_spans}
use Rattle.mk_edit_language.specs.LineChanges.{tokens_beside, begins_with, substituted, value_pieces, from_operator, operator_pieces, line_pieces, line_change_spans}
use Rattle.mk_edit_language.proofs.on_values.RemoveWordLemmas.{remove_word-old}
use Rattle.mk_edit_language.specs.WordPieces.{add_pieces, remove_pieces, replace_pieces, rename_pieces, renamed_pieces, header_pieces, kept, put_last, prerequisite_text, removed_words, renamed_words}
use Rattle.mk_edit_language.proofs.on_prerequisites.WordsRemoved.{removed-old_cells}
use Rattle.mk_edit_language.specs.EditSpans.{header_spans, prereq_pieces, spans_in_lines, renamed_line_spans}
use Rattle.mk_edit_language.specs.RisingSpans.{Rise}
use Rattle.mk_edit_language.proofs.on_edits.RisingSpanLemmas.{Rise-until, Rise-since, Rise-append, Rise-pieces}
use Rattle.mk_edit_language.proofs.on_edits.EditPlaces.{IsSpotOf}
use Rattle.mk_edit_language.proofs.on_lines.ClassParts.{part_units, parts-within, raw_width-append}
use Rattle.mk_edit_language.proofs.on_renames.WordsRenamed.{renamed-old_cells}
use Rattle.mk_edit_language.proofs.on_changes.WordsBeside.{beside-old_cells}
use Rattle.mk_edit_language.specs.declared.edit.Side.{Side}

-- ---- inside a line

-- the parts of a line have at most as many raw bytes as the line
spot-parts : (t : List ℕ) (s : StandingLine) → IsSpotOf (classed_lines t) s → raw_width (part_units s.line.class) ≤ length s.line.bytes
spot-parts t s h =
    let P = line-in_text t s.above s.line s.below h in
    subst (λ (z : Class Cell). raw_width (part_units z) ≤ length s.line.bytes) P.class (parts-within (context_of s.above) s.line.bytes)

-- ---- values

assignment-length : (a : Assignment Cell) → raw_width (assignment_units a) ≡ raw_width (before_value a) + (raw_width a.value + raw_width a.after)
assignment-length a =
    let s : assignment_units a ≡ before_value a ++ (a.value ++ a.after) = simp append_assoc in
    ap raw_width s ∙ (raw_width-append (before_value a) (a.value ++ a.after) ∙ ap (λ z. raw_width (before_value a) + z) (raw_width-append a.value a.after))

-- spans that rise within each line which has an assignment
abbrev RiseInAssignment : (ℕ → Assignment Cell → List Replacement) → Type 0
RiseInAssignment f = (at : ℕ) (a : Assignment Cell) (n : ℕ) → raw_width (assignment_units a) ≤ n → Rise at (at + n) (f at a)

-- the value that is set
set_value-rises : (v : List ℕ) → RiseInAssignment (λ n a. set_value_span v n a ∷ [])
set_value-rises v at a n h = go (is_empty v) (assignment-length a)
  where
    go : (b : Bool) → raw_width (assignment_units a) ≡ raw_width (before_value a) + (raw_width a.value + raw_width a.after)
        → Rise at (at + n) (record { start = at + raw_width (before_value a); end = cond b (at + raw_width (before_value a) + raw_width a.value + raw_width a.after) (at + raw_width (before_value a) + raw_width a.value); new = v } ∷ [])
    go true e = (omega arith, omega arith, omega (arith, e, h))
    go false e = (omega arith, omega arith, omega (arith, e, h))

-- what is appended to it
append_value-rises : (v : List ℕ) → RiseInAssignment (λ n a. append_value_span v n a ∷ [])
append_value-rises v at a n h = let e = assignment-length a in (omega arith, omega arith, omega (arith, e, h))

-- the words that go
led-width : (g : List (List Cell)) (ts : List (Token Cell)) → raw_width (led_units (led_words_among g ts)) ≤ raw_width (g ++ token_units ts)
led-width g [] = omega arith
led-width g (Gap u ∷ ts) = subst (λ z. raw_width (led_units (led_words_among (g ++ u ∷ []) ts)) ≤ raw_width z) (append_assoc g (u ∷ []) (token_units ts)) (led-width (g ++ u ∷ []) ts)
led-width g (Word w ∷ ts) =
    let X = led_units (led_words_among [] ts) in
    let p = raw_width-append g (w ++ X) in
    let q = raw_width-append w X in
    let r = raw_width-append g (w ++ token_units ts) in
    let s = raw_width-append w (token_units ts) in
    omega (arith, p, q, r, s, led-width [] ts)

from_first-width : (ls : List LedWord) → raw_width (from_first_word ls) ≤ raw_width (led_units ls)
from_first-width [] = omega arith
from_first-width (l ∷ ls) = let p = raw_width-append l.gaps (l.word ++ led_units ls) in omega (arith, p)

remove_word-rises : (w : List ℕ) → RiseInAssignment (remove_word_spans w)
remove_word-rises w at a n h = go (is_empty (staying w (led_words a.value)))
  where
    ps : List Piece
    ps = remove_word_pieces w (led_words a.value)

    go : (b : Bool) → Rise at (at + n) (cond b (set_value_span [] at a ∷ []) (replacements (value_start at a) ps))
    go true = set_value-rises [] at a n h
    go false =
        let start = value_start at a in
        let r : Rise start (start + length (old_bytes ps)) (replacements start ps) = Rise-pieces start ps in
        let e : length (old_bytes ps) ≡ raw_width (from_first_word (led_words a.value)) = ap length (sym (raw_text-old_cells ps)) ∙ ap (λ z. length (raw_text z)) (remove_word-old w (led_words a.value)) in
        let d = led-width [] (tokens joined_byte a.value) in
        let same : raw_width (token_units (tokens joined_byte a.value)) ≡ raw_width a.value = ap raw_width (token_units-tokens joined_byte a.value) in
        let most : start + length (old_bytes ps) ≤ at + n = omega (arith, e, d, same, from_first-width (led_words a.value), assignment-length a, h) in
        Rise-since at start (at + n) (replacements start ps) (Rise-until start (start + length (old_bytes ps)) (at + n) (replacements start ps) r most) (omega arith)

-- spans that rise within a line, which begins at an offset and has n bytes, whatever its class
abbrev pub RisesInLine : (ℕ → Class Cell → List Replacement) → Type 0
RisesInLine f = (at n : ℕ) (k : Class Cell) → raw_width (part_units k) ≤ n → Rise at (at + n) (f at k)

pub rise-values : (f : ℕ → Assignment Cell → List Replacement) → RiseInAssignment f → RisesInLine (assignment_spans f)
rise-values f g at n (Assign a p) h = g at a n h
rise-values f g at n Endef h = omega arith
rise-values f g at n (Body d) h = omega arith
rise-values f g at n Recipe h = omega arith
rise-values f g at n Opaque h = omega arith
rise-values f g at n Blank h = omega arith
rise-values f g at n Comment h = omega arith
rise-values f g at n (DefineHead b) h = omega arith
rise-values f g at n If h = omega arith
rise-values f g at n Else h = omega arith
rise-values f g at n Endif h = omega arith
rise-values f g at n Directive h = omega arith
rise-values f g at n (TargetAssign x) h = omega arith
rise-values f g at n Rough h = omega arith
rise-values f g at n (Header x) h = omega arith

-- spans in the line of a spot
pub spot-rises : (t : List ℕ) (s : StandingLine) (f : ℕ → Class Cell → List Replacement) → IsSpotOf (classed_lines t) s → RisesInLine f
    → Rise (length (text_of s.above)) (length (text_of s.above) + length s.line.bytes) (f (length (text_of s.above)) s.line.class)
spot-rises t s f h g = g (length (text_of s.above)) (length s.line.bytes) s.line.class (spot-parts t s h)

-- ---- words

-- how many bytes pieces have before
abbrev old_length : List Piece → ℕ
old_length ps = length (old_bytes ps)

old_length-append : (ps qs : List Piece) → old_length (ps ++ qs) ≡ old_length ps + old_length qs
old_length-append ps qs = ap length (old_bytes-append ps qs) ∙ length-append (old_bytes ps) (old_bytes qs)

old_length-cells : (ps : List Piece) (us : List (List Cell)) → old_cells ps ≡ concat us → old_length ps ≡ raw_width us
old_length-cells ps us h = ap length (sym (raw_text-old_cells ps)) ∙ ap (λ z. length (raw_text z)) h

kept-length : (us : List (List Cell)) → old_length (kept us) ≡ raw_width us
kept-length us = old_length-cells (kept us) us (append-nil (concat us))

removed-length : (w : List ℕ) (us : List (List Cell)) → old_length (removed_words w us) ≡ raw_width us
removed-length w us = old_length-cells (removed_words w us) us (removed-old_cells w [] (tokens joined_byte us) ∙ token_text-tokens joined_byte us)

put_last-length : (v : List ℕ) (us : List (List Cell)) → old_length (put_last v us) ≡ raw_width us
put_last-length v us =
    let A = trim_end (is_gap joined_byte) us in
    let B = trailing (is_gap joined_byte) us in
    old_length-cells (put_last v us) us (ap (λ z. concat A ++ z) (append-nil (concat B)) ∙ (sym (concat-append A B) ∙ ap concat (trim_end-trailing (is_gap joined_byte) us)))

renamed-length : (o n : List ℕ) (us : List (List Cell)) → old_length (renamed_words o n us) ≡ raw_width us
renamed-length o n us = old_length-cells (renamed_words o n us) us (renamed-old_cells o n (tokens joined_byte us) ∙ token_text-tokens joined_byte us)

-- the pieces of a header's line are of all its parts
header-length : (h : Headers.Header Cell) (t n o : List Piece) → old_length t ≡ raw_width h.targets → old_length n ≡ raw_width h.normal → old_length o ≡ raw_width h.order_only
    → old_length (header_pieces h t n o) ≡ raw_width (header_units h)
header-length h t n o i j k =
    let C = h.colons ++ (h.pattern ++ h.second_colon) in
    let p5 = old_length-append o (kept h.tail) in
    let p4 = old_length-append (kept h.bar) (o ++ kept h.tail) in
    let p3 = old_length-append n (kept h.bar ++ (o ++ kept h.tail)) in
    let p2 = old_length-append (kept C) (n ++ (kept h.bar ++ (o ++ kept h.tail))) in
    let p1 = old_length-append t (kept C ++ (n ++ (kept h.bar ++ (o ++ kept h.tail)))) in
    let c = kept-length C in
    let b = kept-length h.bar in
    let e = kept-length h.tail in
    let q7 = raw_width-append h.order_only h.tail in
    let q6 = raw_width-append h.bar (h.order_only ++ h.tail) in
    let q5 = raw_width-append h.normal (h.bar ++ (h.order_only ++ h.tail)) in
    let q4 = raw_width-append h.second_colon (h.normal ++ (h.bar ++ (h.order_only ++ h.tail))) in
    let q3 = raw_width-append h.pattern (h.second_colon ++ (h.normal ++ (h.bar ++ (h.order_only ++ h.tail)))) in
    let q2 = raw_width-append h.colons (h.pattern ++ (h.second_colon ++ (h.normal ++ (h.bar ++ (h.order_only ++ h.tail))))) in
    let q1 = raw_width-append h.targets (h.colons ++ (h.pattern ++ (h.second_colon ++ (h.normal ++ (h.bar ++ (h.order_only ++ h.tail)))))) in
    let c1 = raw_width-append h.colons (h.pattern ++ h.second_colon) in
    let c2 = raw_width-append h.pattern h.second_colon in
    p1 ∙ (ap (λ z. old_length t + z) (p2 ∙ ap (λ z. old_length (kept C) + z) (p3 ∙ ap (λ z. old_length n + z) (p4 ∙ ap (λ z. old_length (kept h.bar) + z) p5)))
    ∙ (sums (old_length t) (old_length (kept C)) (old_length n) (old_length (kept h.bar)) (old_length o) (old_length (kept h.tail)) (raw_width h.targets) (raw_width h.colons) (raw_width h.pattern) (raw_width h.second_colon) (raw_width h.normal) (raw_width h.bar) (raw_width h.order_only) (raw_width h.tail)
    i (c ∙ (c1 ∙ ap (λ z. raw_width h.colons + z) c2)) j b k e
    ∙ sym (q1 ∙ ap (λ z. raw_width h.targets + z) (q2 ∙ ap (λ z. raw_width h.colons + z) (q3 ∙ ap (λ z. raw_width h.pattern + z) (q4 ∙ ap (λ z. raw_width h.second_colon + z) (q5 ∙ ap (λ z. raw_width h.normal + z) (q6 ∙ ap (λ z. raw_width h.bar + z) q7))))))))
  where
    sums : (a b c d e f ta co pa se nl ba oo tl : ℕ) → a ≡ ta → b ≡ co + (pa + se) → c ≡ nl → d ≡ ba → e ≡ oo → f ≡ tl → a + (b + (c + (d + (e + f)))) ≡ ta + (co + (pa + (se + (nl + (ba + (oo + tl))))))
    sums a b c d e f ta co pa se nl ba oo tl h1 h2 h3 h4 h5 h6 = omega (arith, h1, h2, h3, h4, h5, h6)

rename-length : (o n : List ℕ) (h : Headers.Header Cell) → old_length (rename_pieces o n h) ≡ raw_width (header_units h)
rename-length o n h = header-length h (renamed_words o n h.targets) (renamed_words o n h.normal) (renamed_words o n h.order_only) (renamed-length o n h.targets) (renamed-length o n h.normal) (renamed-length o n h.order_only)

remove-length : (w : List ℕ) (h : Headers.Header Cell) → old_length (remove_pieces w h) ≡ raw_width (header_units h)
remove-length w h = header-length h (kept h.targets) (removed_words w h.normal) (removed_words w h.order_only) (kept-length h.targets) (removed-length w h.normal) (removed-length w h.order_only)

add-length : (order : Bool) (w : List ℕ) (h : Headers.Header Cell) → old_length (add_pieces order w h) ≡ raw_width (header_units h)
add-length false w h = header-length h (kept h.targets) (put_last (prerequisite_text w h) h.normal) (kept h.order_only) (kept-length h.targets) (put_last-length (prerequisite_text w h) h.normal) (kept-length h.order_only)
add-length true w h = go (is_empty h.bar)
  where
    go : (b : Bool) → old_length (cond b (header_pieces h (kept h.targets) (put_last (codes " | " ++ w) h.normal) (kept h.order_only)) (header_pieces h (kept h.targets) (kept h.normal) (put_last (32 ∷ w) h.order_only))) ≡ raw_width (header_units h)
    go true = header-length h (kept h.targets) (put_last (codes " | " ++ w) h.normal) (kept h.order_only) (kept-length h.targets) (put_last-length (codes " | " ++ w) h.normal) (kept-length h.order_only)
    go false = header-length h (kept h.targets) (kept h.normal) (put_last (32 ∷ w) h.order_only) (kept-length h.targets) (kept-length h.normal) (put_last-length (32 ∷ w) h.order_only)

replace-length : (o n : List ℕ) (h : Headers.Header Cell) → old_length (replace_pieces o n h) ≡ raw_width (header_units h)
replace-length o n h = header-length h (kept h.targets) (renamed_words o n h.normal) (renamed_words o n h.order_only) (kept-length h.targets) (renamed-length o n h.normal) (renamed-length o n h.order_only)

pub prereq-length : (c : PrereqChange) (h : Headers.Header Cell) → old_length (prereq_pieces c h) ≡ raw_width (header_units h)
prereq-length (AddPrereq order w) h = add-length order w h
prereq-length (RemovePrereq w) h = remove-length w h
prereq-length (ReplacePrereq o n) h = replace-length o n h

pub rise-header : (f : Headers.Header Cell → List Piece) → ((h : Headers.Header Cell) → old_length (f h) ≡ raw_width (header_units h)) → RisesInLine (header_spans f)
rise-header f g at n (Header x) h = Rise-until at (at + old_length (f x)) (at + n) (replacements at (f x)) (Rise-pieces at (f x)) (omega (arith, g x, h))
rise-header f g at n Endef h = omega arith
rise-header f g at n (Body d) h = omega arith
rise-header f g at n Recipe h = omega arith
rise-header f g at n Opaque h = omega arith
rise-header f g at n Blank h = omega arith
rise-header f g at n Comment h = omega arith
rise-header f g at n (Assign a p) h = omega arith
rise-header f g at n (DefineHead b) h = omega arith
rise-header f g at n If h = omega arith
rise-header f g at n Else h = omega arith
rise-header f g at n Endif h = omega arith
rise-header f g at n Directive h = omega arith
rise-header f g at n (TargetAssign x) h = omega arith
rise-header f g at n Rough h = omega arith

-- ---- renames

renamed-within : (o n : List ℕ) (k : Class Cell) → old_length (renamed_pieces o n k) ≤ raw_width (part_units k)
renamed-within o n (Header x) = let e = rename-length o n x in omega (arith, e)
renamed-within o n (TargetAssign x) = let e = renamed-length o n x.targets in omega (arith, e)
renamed-within o n Endef = omega arith
renamed-within o n (Body d) = omega arith
renamed-within o n Recipe = omega arith
renamed-within o n Opaque = omega arith
renamed-within o n Blank = omega arith
renamed-within o n Comment = omega arith
renamed-within o n (Assign a p) = omega arith
renamed-within o n (DefineHead b) = omega arith
renamed-within o n If = omega arith
renamed-within o n Else = omega arith
renamed-within o n Endif = omega arith
renamed-within o n Directive = omega arith
renamed-within o n Rough = omega arith

pub rise-renamed : (o n : List ℕ) → RisesInLine (renamed_line_spans o n)
rise-renamed o n at m k h =
    let ps = renamed_pieces o n k in
    Rise-until at (at + old_length ps) (at + m) (replacements at ps) (Rise-pieces at ps) (omega (arith, h, renamed-within o n k))

-- ---- changes of values

pub change-rises : (c : ValueChange) → RiseInAssignment (change_spans c)
change-rises (Set v) = set_value-rises v
change-rises (SetIf o v) = set_value-rises v
change-rises (Append v) = append_value-rises v
change-rises (Add w) = append_value-rises w
change-rises (Remove w) = remove_word-rises w

pub rise-changed : (n : List ℕ) (c : ValueChange) → RisesInLine (changed_line_spans n c)
rise-changed n c at m k h = go (is_class_changed n c k)
  where
    go : (b : Bool) → Rise at (at + m) (cond b (assignment_spans (change_spans c) at k) [])
    go true = rise-values (change_spans c) (change-rises c) at m k h
    go false = omega arith

-- ---- changes that are checked by reading

-- cells of which some are taken at the front
taken-width : (n : ℕ) (cs : List Cell) → length (raw_text (take n cs)) + length (raw_text (drop n cs)) ≡ length (raw_text cs)
taken-width n cs =
    let e = raw_text-append (take n cs) (drop n cs) in
    let s : raw_text (take n cs ++ drop n cs) ≡ raw_text cs = ap raw_text (take-append-drop n cs) in
    sym (length-append (raw_text (take n cs)) (raw_text (drop n cs))) ∙ (sym (ap length e) ∙ ap length s)

-- the occurrences of a text: `taken` cells belong to the last one
substituted-step : (k : ℕ) (c : Cell) (cs : List Cell) (ps : List Piece) → old_length ps ≤ length (raw_text (drop (k - 1) cs)) → length (raw_text (take k (c ∷ cs)) ++ old_bytes ps) ≤ length (raw_text (c ∷ cs))
substituted-step zero c cs ps h = omega (arith, h, length-append (raw_bytes c) (raw_text cs))
substituted-step (suc k) c cs ps h =
    let e : suc k - 1 ≡ k = omega arith in
    let r : old_length ps ≤ length (raw_text (drop k cs)) = subst (λ z. old_length ps ≤ length (raw_text (drop z cs))) e h in
    let x = length-append (raw_bytes c ++ raw_text (take k cs)) (old_bytes ps) in
    let y = length-append (raw_bytes c) (raw_text (take k cs)) in
    let z = length-append (raw_bytes c) (raw_text cs) in
    omega (arith, r, x, y, z, taken-width k cs)

substituted-width : (f v : List ℕ) (n : ℕ) (cs : List Cell) → old_length (substituted f v n cs) ≤ length (raw_text (drop n cs))
substituted-width f v n [] = omega arith
substituted-width f v (suc n) (c ∷ cs) = substituted-width f v n cs
substituted-width f v zero (c ∷ cs) = go (begins_with f (c ∷ cs)) (substituted-width f v (length f - 1) cs) (substituted-width f v zero cs)
  where
    go : (b : Bool) → old_length (substituted f v (length f - 1) cs) ≤ length (raw_text (drop (length f - 1) cs)) → old_length (substituted f v zero cs) ≤ length (raw_text cs)
        → old_length (cond b (Replace (take (length f) (c ∷ cs)) v ∷ substituted f v (length f - 1) cs) (Keep (c ∷ []) ∷ substituted f v zero cs)) ≤ length (raw_text (c ∷ cs))
    go true h k = substituted-step (length f) c cs (substituted f v (length f - 1) cs) h
    go false h k =
        let e = length-append (raw_bytes c) (raw_text cs) in
        let x = length-append (raw_bytes c ++ []) (old_bytes (substituted f v zero cs)) in
        let y = length-append (raw_bytes c) [] in
        omega (arith, e, x, y, k)

beside-length : (s : Side) (f : List Cell → List ℕ) (w n : List ℕ) (us : List (List Cell)) → old_length (tokens_beside s f w n [] (tokens joined_byte us)) ≡ raw_width us
beside-length s f w n us = old_length-cells (tokens_beside s f w n [] (tokens joined_byte us)) us (beside-old_cells s f w n [] (tokens joined_byte us) ∙ token_text-tokens joined_byte us)

value-width : (f : List Cell → List ℕ) (c : LineChange) (us : List (List Cell)) → old_length (value_pieces f c us) ≤ raw_width us
value-width f (Prepend v) us = let e = kept-length us in omega (arith, e)
value-width f (ReplaceWord w v) us = let e = renamed-length w v us in omega (arith, e)
value-width f (InsertWord s w n) us = let e = beside-length s f w n us in omega (arith, e)
value-width f (Substitute x v) us = substituted-width x v 0 (concat us)
value-width f (SetOperator o) us = let e = kept-length us in omega (arith, e)

operator-width : (c : LineChange) (a : Assignment Cell) → old_length (operator_pieces c a) ≡ raw_width a.operator
operator-width (SetOperator f) a =
    let gap = leading (is_gap joined_byte) a.operator in
    let rest = from_operator a in
    let n = operator_length a.flavor in
    let x = old_length-append (kept gap) (Replace (concat (take n rest)) (operator_text f) ∷ kept (drop n rest)) in
    let y = length-append (raw_text (concat (take n rest))) (old_bytes (kept (drop n rest))) in
    let z : raw_width rest ≡ raw_width (take n rest) + raw_width (drop n rest) = sym (ap raw_width (take-append-drop n rest)) ∙ raw_width-append (take n rest) (drop n rest) in
    let w : raw_width a.operator ≡ raw_width gap + raw_width rest = sym (ap raw_width (leading-after_leading (is_gap joined_byte) a.operator)) ∙ raw_width-append gap rest in
    omega (arith, x, y, z, w, kept-length gap, kept-length (drop n rest))
operator-width (Prepend v) a = kept-length a.operator
operator-width (ReplaceWord w v) a = kept-length a.operator
operator-width (InsertWord s w n) a = kept-length a.operator
operator-width (Substitute f v) a = kept-length a.operator

pub line_change-rises : (c : LineChange) → RiseInAssignment (line_change_spans c)
line_change-rises c at a n h =
    let ps = line_pieces c a in
    let x = old_length-append (kept (a.before ++ a.name)) (operator_pieces c a ++ value_pieces raw_text c a.value) in
    let y = old_length-append (operator_pieces c a) (value_pieces raw_text c a.value) in
    let b : raw_width (before_value a) ≡ raw_width (a.before ++ a.name) + raw_width a.operator =
    ap raw_width (sym (append_assoc a.before a.name a.operator)) ∙ raw_width-append (a.before ++ a.name) a.operator in
    let most : at + old_length ps ≤ at + n = omega (arith, x, y, b, kept-length (a.before ++ a.name), operator-width c a, value-width raw_text c a.value, assignment-length a, h) in
    Rise-until at (at + old_length ps) (at + n) (replacements at ps) (Rise-pieces at ps) most

-- ---- several lines

-- spans that rise within each line of some, in one that has a class of its own
pub rise-in_line : (f : ℕ → Class Cell → List Replacement) → RisesInLine f → (c : Context) (l : ClassedLine) (ls : List ClassedLine) (at : ℕ) → AreClassed c (l ∷ ls) → Rise at (at + length l.bytes) (f at l.class)
rise-in_line f g c l ls at h = g at (length l.bytes) l.class (subst (λ (z : Class Cell). raw_width (part_units z) ≤ length l.bytes) (AreClassed-class c l ls h) (parts-within c l.bytes))

-- spans that rise within each line rise within all
pub rise-lines : (f : ℕ → Class Cell → List Replacement) → RisesInLine f → (c : Context) (ls : List ClassedLine) (at : ℕ) → AreClassed c ls → Rise at (at + length (text_of ls)) (spans_in_lines f at ls)
rise-lines f g c [] at h = omega arith
rise-lines f g c (l ∷ ls) at h =
    let m = at + length l.bytes in
    let e : m + length (text_of ls) ≡ at + length (l.bytes ++ text_of ls) = omega (arith, length-append l.bytes (text_of ls)) in
    Rise-append at m (at + length (l.bytes ++ text_of ls)) (f at l.class) (spans_in_lines f m ls)
    (rise-in_line f g c l ls at h)
    (subst (λ z. Rise m z (spans_in_lines f m ls)) e (rise-lines f g (context_after c l.class) ls m (AreClassed-tail c l ls h)))

pub rise-all_lines : (f : ℕ → Class Cell → List Replacement) → RisesInLine f → (t : List ℕ) → Rise 0 (length t) (spans_in_lines f 0 (classed_lines t))
rise-all_lines f g t =
    let ls = classed_lines t in
    Rise-until 0 (0 + length (text_of ls)) (length t) (spans_in_lines f 0 ls) (rise-lines f g start ls 0 (AreClassed-lines t ls refl)) (omega (arith, ap length (text_of-classed_lines t)))
