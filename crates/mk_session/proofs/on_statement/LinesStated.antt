-- What an edit of an assignment's line that is checked by reading does to the lines of a makefile, in bytes.
use Rattle.std.proofs.Common.{◌≡◌, refl, sym, ap, ◌∙◌, subst, ℕ, zero, suc, ◌+◌, ◌-◌, List, [], ◌∷◌, ◌++◌, map, length, take, drop, Bool, true, false, ◌&&◌, Option, Some, None, option_map}
use Rattle.std.proofs.lemmas.Bool.{and_parts, not-false}
use Rattle.std.proofs.lemmas.List.{append-nil}
use Rattle.std.proofs.lemmas.Slice.Eq.{bytes_eq-Decides}
use Rattle.std.specs.Prelude.{Ok, if◌then◌else◌}
use Rattle.std.specs.List.{list_any}
use Rattle.std.specs.Str.{bytes_eq}
use Rattle.mk_lines.specs.Lists.{concat}
use Rattle.mk_lines.specs.LogicalLines.{logical_lines}
use Rattle.mk_lines.specs.Cells.{Cell, joined_byte, raw_text}
use Rattle.mk_lines.specs.Pieces.{Replacement, replaced, Piece, Keep, Replace, replacements}
use Rattle.mk_lines.specs.Words.{Token, Gap, Word, tokens}
use Rattle.mk_class.specs.ListTests.{is_empty}
use Rattle.mk_class.specs.OperatorTexts.{operator_text}
use Rattle.mk_class.specs.Texts.{unit_text}
use Rattle.mk_class.specs.Assignments.{Assignment}
use Rattle.mk_class.specs.Classes.{Class}
use Rattle.mk_class.specs.Classes.Class.{Endef, Body, Recipe, Opaque, Blank, Comment, Assign, DefineHead, If, Else, Endif, Directive, TargetAssign, Rough, Header}
use Rattle.mk_class.specs.Contexts.{Context}
use Rattle.mk_class.specs.ClassTable.{class_of}
use Rattle.mk_class.specs.ClassedLines.{classed_lines}
use Rattle.mk_tree.specs.LineTexts.{StandingLine, text_of, context_of}
use Rattle.mk_tree.proofs.on_documents.LinesInText.{line-in_text}
use Rattle.mk_edit_language.specs.Edits.{LineChange, Prepend, ReplaceWord, InsertWord, Substitute, SetOperator, ChangeLine}
use Rattle.mk_edit_language.specs.Addresses.{Variable, assigns, found}
use Rattle.mk_edit_language.specs.Stretches.{this_line, touched_by}
use Rattle.mk_edit_language.specs.WordPieces.{is_word_of, renamed_tokens, is_replaced}
use Rattle.mk_edit_language.specs.ValueChanges.{assignment_passes, assignment_spans, value_spans}
use Rattle.mk_edit_language.specs.LineChanges.{separator, leading_gaps, word_beside, tokens_beside, begins_with, substituted, value_pieces, operator_pieces, line_pieces, line_change_spans, is_line_changed, assigned_after, modifier_number, reads_as, fits_line, line_after, is_misread}
use Rattle.mk_edit_language.specs.EditSpans.{where_found}
use Rattle.mk_edit_language.specs.declared.edit.Side.{Side}
use Rattle.mk_edit_language.specs.declared.edit.Side.TheVariants.{Before, After}
use Rattle.mk_edit_language.specs.RuleCauses.{class_found}
use Rattle.mk_edit_language.specs.LineCauses.{is_found_misread}
use Rattle.mk_edit_language.specs.KeptLines.{respanned_bytes}
use Rattle.mk_edit_language.specs.Refusals.{spans, text_after}
use Rattle.mk_edit_language.proofs.on_edits.Accepted.{accepted, where_holds-none}
use Rattle.mk_edit_language.proofs.on_edits.MadeEdits.{line_change-by_itself, one_place-made}
use Rattle.mk_edit_language.proofs.on_lines.SpotLemmas.{picked-is}
use Rattle.mk_session.specs.Statement.{Has, Names, Line, Become}
use Rattle.mk_session.proofs.on_statement.CellTexts.{has-nothing, has-all, has-left, has-right, has-front}
use Rattle.mk_session.proofs.on_statement.LineWords.{assign-names, assign-line}
use Rattle.mk_session.proofs.on_statement.PlacedLines.{lines-become}
use Rattle.mk_session.proofs.on_statement.ValuesStated.{some-mapped}

-- ---- the text that is put in

-- the text that a change puts into a line
abbrev pub put_in : LineChange → List ℕ
put_in (Prepend v) = v
put_in (ReplaceWord w v) = v
put_in (InsertWord s w n) = n
put_in (Substitute f t) = t
put_in (SetOperator f) = operator_text f

-- each piece that is replaced gets a text that has this one
abbrev ArePut : (text : List ℕ) → List Piece → Type 0
ArePut v [] = Unit {0}
ArePut v (Keep cs ∷ ps) = ArePut v ps
ArePut v (Replace cs new ∷ ps) = Has v new × ArePut v ps

put-append : (v : List ℕ) (ps qs : List Piece) → ArePut v ps → ArePut v qs → ArePut v (ps ++ qs)
put-append v [] qs h k = k
put-append v (Keep cs ∷ ps) qs h k = put-append v ps qs h k
put-append v (Replace cs new ∷ ps) qs h k = (h.0, put-append v ps qs h.1 k)

-- a line of which a piece is replaced has the text then
pieces-put : (v : List ℕ) (ps : List Piece) (at start : ℕ) (l : List ℕ) → ArePut v ps → list_any is_replaced ps ≡ true → Has v (replaced at l (replacements start ps))
pieces-put v [] at start l h k = absurd (cc)
pieces-put v (Keep cs ∷ ps) at start l h k = pieces-put v ps at (start + length (raw_text cs)) l h k
pieces-put v (Replace cs new ∷ ps) at start l h k =
    let end = start + length (raw_text cs) in
    let rest = replaced end (drop (end - at) l) (replacements end ps) in
    has-right v (take (start - at) l) (new ++ rest) (has-left v new rest h.0)

-- ---- the pieces of each change

tokens-put : (o n : List ℕ) (ts : List (Token Cell)) → ArePut n (renamed_tokens o n ts)
tokens-put o n [] = tt
tokens-put o n (Gap u ∷ ts) = tokens-put o n ts
tokens-put o n (Word w ∷ ts) = go (is_word_of o w) (tokens-put o n ts)
  where
    go : (b : Bool) → ArePut n (renamed_tokens o n ts) → ArePut n ((if b then Replace (concat w) n else Keep (concat w)) ∷ renamed_tokens o n ts)
    go true h = (has-all n, h)
    go false h = h

beside-put : (s : Side) (f : List Cell → List ℕ) (n : List ℕ) (b w a : List Cell) → ArePut n (word_beside s f n b w a)
beside-put Before f n b w a = (has-front n (f (separator b a)), tt)
beside-put After f n b w a = (has-right n (f (separator a b)) n (has-all n), tt)

words-put : (s : Side) (f : List Cell → List ℕ) (w n : List ℕ) (b : List Cell) (ts : List (Token Cell)) → ArePut n (tokens_beside s f w n b ts)
words-put s f w n b [] = tt
words-put s f w n b (Gap u ∷ ts) = words-put s f w n (b ++ u) ts
words-put s f w n b (Word x ∷ ts) = go (is_word_of w x) (words-put s f w n [] ts)
  where
    go : (c : Bool) → ArePut n (tokens_beside s f w n [] ts) → ArePut n ((if c then word_beside s f n b (concat x) (leading_gaps ts) else Keep (concat x) ∷ []) ++ tokens_beside s f w n [] ts)
    go true h = put-append n (word_beside s f n b (concat x) (leading_gaps ts)) (tokens_beside s f w n [] ts) (beside-put s f n b (concat x) (leading_gaps ts)) h
    go false h = h

texts-put : (f t : List ℕ) (n : ℕ) (cs : List Cell) → ArePut t (substituted f t n cs)
texts-put f t n [] = tt
texts-put f t (suc n) (c ∷ cs) = texts-put f t n cs
texts-put f t zero (c ∷ cs) = go (begins_with f (c ∷ cs)) (λ k. texts-put f t k cs)
  where
    go : (b : Bool) → ((k : ℕ) → ArePut t (substituted f t k cs))
        → ArePut t (if b then Replace (take (length f) (c ∷ cs)) t ∷ substituted f t (length f - 1) cs else Keep (c ∷ []) ∷ substituted f t zero cs)
    go true h = (has-all t, h (length f - 1))
    go false h = h zero

prepended-has : (v : List ℕ) (b : Bool) → Has v (if b then v else v ++ 32 ∷ [])
prepended-has v true = has-all v
prepended-has v false = has-front v (32 ∷ [])

value-put : (c : LineChange) (us : List (List Cell)) → ArePut (put_in c) (value_pieces raw_text c us)
value-put (Prepend v) us = (prepended-has v (is_empty us), tt)
value-put (ReplaceWord w v) us = tokens-put w v (tokens joined_byte us)
value-put (InsertWord s w n) us = words-put s raw_text w n [] (tokens joined_byte us)
value-put (Substitute f t) us = texts-put f t 0 (concat us)
value-put (SetOperator f) us = tt

operator-put : (c : LineChange) (a : Assignment Cell) → ArePut (put_in c) (operator_pieces c a)
operator-put (Prepend v) a = tt
operator-put (ReplaceWord w v) a = tt
operator-put (InsertWord s w n) a = tt
operator-put (Substitute f t) a = tt
operator-put (SetOperator f) a = (has-all (operator_text f), tt)

line-put : (c : LineChange) (a : Assignment Cell) → ArePut (put_in c) (line_pieces c a)
line-put c a = put-append (put_in c) (operator_pieces c a) (value_pieces raw_text c a.value) (operator-put c a) (value-put c a.value)

-- ---- the new line

-- a line that reads as an assignment after a change assigns the same name
read-names : (n : List ℕ) (c : LineChange) (a : Assignment Cell) (k : Class Cell) → unit_text joined_byte a.name ≡ n → reads_as (assigned_after c a) k ≡ true → assigns n k ≡ true
read-names n c a (Assign b None) e h =
    let P = and_parts (bytes_eq (map modifier_number b.modifiers) (map modifier_number a.modifiers)) _ h in
    let Q = and_parts (bytes_eq (unit_text joined_byte b.name) (unit_text joined_byte a.name)) _ P.1 in
    subst (λ z. bytes_eq (unit_text joined_byte b.name) z ≡ true) e Q.0
read-names n c a (Assign b (Some p)) e h = absurd (cc)
read-names n c a Endef e h = absurd (cc)
read-names n c a (Body d) e h = absurd (cc)
read-names n c a Recipe e h = absurd (cc)
read-names n c a Opaque e h = absurd (cc)
read-names n c a Blank e h = absurd (cc)
read-names n c a Comment e h = absurd (cc)
read-names n c a (DefineHead p) e h = absurd (cc)
read-names n c a If e h = absurd (cc)
read-names n c a Else e h = absurd (cc)
read-names n c a Endif e h = absurd (cc)
read-names n c a Directive e h = absurd (cc)
read-names n c a (TargetAssign t) e h = absurd (cc)
read-names n c a Rough e h = absurd (cc)
read-names n c a (Header x) e h = absurd (cc)

-- The line of an assignment after a change: it assigns the variable, and has the text that is put in.
pub record IsLineChanged (ctx : Context) (n : List ℕ) (c : LineChange) (m : List ℕ) : Type 0 where
  pub assigns_it : assigns n (class_of ctx m) ≡ true
  pub has : Has (put_in c) m

pub changed-line : (ctx : Context) (n l : List ℕ) (k : Class Cell) (c : LineChange) (at : ℕ) → class_of ctx l ≡ k → assigns n k ≡ true
    → is_misread c ctx l k ≡ false → assignment_passes (is_line_changed c) (Some k) ≡ true → IsLineChanged ctx n c (replaced at l (assignment_spans (line_change_spans c) at k))
changed-line ctx n l k c at e h read changed =
    let L = assign-line ctx n l k e h in
    let a = L.assigned in
    let m = line_after c l a in
    let spans_are : assignment_spans (line_change_spans c) at k ≡ line_change_spans c at a = ap (assignment_spans (line_change_spans c) at) L.class_is in
    let named : bytes_eq (unit_text joined_byte a.name) n ≡ true = subst (λ z. assigns n z ≡ true) L.class_is h in
    let name : unit_text joined_byte a.name ≡ n = (bytes_eq-Decides (unit_text joined_byte a.name) n).0 named in
    let read_there : is_misread c ctx l (Assign a L.sets) ≡ false = subst (λ z. is_misread c ctx l z ≡ false) L.class_is read in
    let some : is_line_changed c a ≡ true = subst (λ z. assignment_passes (is_line_changed c) (Some z) ≡ true) L.class_is changed in
    let R = and_parts (fits_line l m) (reads_as (assigned_after c a) (class_of ctx m)) (not-false (fits_line l m && reads_as (assigned_after c a) (class_of ctx m)) read_there) in
    let made : replaced at l (assignment_spans (line_change_spans c) at k) ≡ m = ap (λ z. replaced at l z) spans_are ∙ line_change-by_itself c at a l in
    record {
      assigns_it = subst (λ z. assigns n (class_of ctx z) ≡ true) (sym made) (read-names n c a (class_of ctx m) name R.1);
      has = subst (λ z. Has (put_in c) (replaced at l z)) (sym spans_are) (pieces-put (put_in c) (line_pieces c a) at at l (line-put c a) some);
    }

-- ---- the edit

-- the line of one assignment becomes another
pub line-stated : (nth : Option ℕ) (n : List ℕ) (c : LineChange) (t : List ℕ) (rs : List Replacement) → spans t (ChangeLine nth n c) ≡ Ok rs
    → Become (Line n 61 []) (Line n 61 (put_in c)) (logical_lines t) (logical_lines (text_after t (ChangeLine nth n c)))
line-stated nth n c t rs h =
    let e = ChangeLine nth n c in
    let A = accepted t e rs h in
    let K = (one_place-made e tt t rs h).kept in
    let M = some-mapped this_line (found (classed_lines t) (Variable nth n)) K.touched K.place in
    let s = M.0 in
    let S = picked-is (λ l. assigns n l.class) (classed_lines t) nth s M.1 in
    let L = line-in_text t s.above s.line s.below S.whole in
    let ctx = context_of s.above in
    let at = length (text_of s.above) in
    let touched : touched_by (classed_lines t) e ≡ Some (this_line s) = ap (option_map this_line) M.1 in
    let spans_are : rs ≡ assignment_spans (line_change_spans c) at s.line.class = sym A.spans_are ∙ ap (where_found (value_spans (line_change_spans c))) M.1 in
    let m = replaced at s.line.bytes (assignment_spans (line_change_spans c) at s.line.class) in
    let new : respanned_bytes (this_line s) rs ≡ m = ap (λ z. replaced at z rs) (append-nil s.line.bytes) ∙ ap (λ z. replaced at s.line.bytes z) spans_are in
    let read : is_misread c ctx s.line.bytes s.line.class ≡ false = subst (λ (o : Option StandingLine). is_found_misread c o ≡ false) M.1 (where_holds-none _ _ A.not_misread) in
    let changed : assignment_passes (is_line_changed c) (Some s.line.class) ≡ true =
    subst (λ (o : Option StandingLine). assignment_passes (is_line_changed c) (class_found o) ≡ true) M.1 (not-false _ (where_holds-none _ _ A.not_absent)) in
    let N = changed-line ctx n s.line.bytes s.line.class c at L.class S.passes read changed in
    let names : Names n 61 m = assign-names ctx n m (class_of ctx m) refl N.assigns_it in
    lines-become (Line n 61 []) (Line n 61 (put_in c)) t e rs (this_line s) touched h
    (s.line.bytes, refl, assign-names ctx n s.line.bytes s.line.class L.class S.passes, has-nothing s.line.bytes) (m, ap (λ z. z ∷ []) new, names, N.has)
