-- What an edit of assignments does to the lines of a makefile, in bytes.
use Rattle.std.proofs.Common.{◌≡◌, refl, sym, ap, ◌∙◌, subst, arith, ℕ, ◌+◌, ◌-◌, ◌≤◌, List, [], ◌∷◌, ◌++◌, map, length, take, drop, cond, Bool, true, false, append_assoc, Option, Some, None, option_map, inl, inr}
use Rattle.std.specs.Prelude.{Ok, ◌&&◌, ◌⊎◌, codes, if◌then◌else◌}
use Rattle.std.specs.List.{AllZip}
use Rattle.std.proofs.lemmas.List.{append-nil}
use Rattle.std.proofs.lemmas.Bool.{and_parts}
use Rattle.mk_lines.specs.Lists.{concat}
use Rattle.mk_lines.specs.LogicalLines.{logical_lines}
use Rattle.mk_lines.specs.Spacing.{after_space}
use Rattle.mk_lines.specs.Cells.{Cell, raw_text}
use Rattle.mk_lines.specs.Pieces.{Replacement, Piece, replaced, old_bytes}
use Rattle.mk_class.specs.ListTests.{is_empty}
use Rattle.mk_class.specs.Assignments.{Assignment, before_value}
use Rattle.mk_class.specs.OperatorTexts.{operator_text}
use Rattle.mk_class.specs.declared.assignment.Flavor.{Flavor}
use Rattle.mk_class.specs.declared.assignment.Flavor.TheVariants as flavor
use Rattle.mk_class.specs.Classes.{Class}
use Rattle.mk_class.specs.Contexts.{Context, start, context_after}
use Rattle.mk_class.specs.ClassTable.{class_of}
use Rattle.mk_class.specs.ClassedLines.{ClassedLine, classed_lines}
use Rattle.mk_tree.specs.LineTexts.{StandingLine, text_of, context_of, bytes_of}
use Rattle.mk_tree.proofs.on_documents.LinesInText.{AreClassed, AreClassed-class, AreClassed-tail, AreClassed-lines, bytes_of-classed, line-in_text}
use Rattle.mk_edit_language.specs.Edits.{Place, NewAssign, One, Every, ValueChange, Set, SetIf, Append, Add, Remove, OfAssign, ChangeValue, AddLine, RemoveLines}
use Rattle.mk_edit_language.specs.Addresses.{Variable, assigns, found, has_value, value_address}
use Rattle.mk_edit_language.specs.Stretches.{Stretch, this_line, between, place_found, touched_by}
use Rattle.mk_edit_language.specs.NewLines.{assign_text, new_line_end}
use Rattle.mk_edit_language.specs.ValueChanges.{value_start, value_end, blanks_end, set_value_span, append_value_span, assignment_spans, value_spans, led_words, staying, remove_word_pieces, remove_word_spans, has_effect, is_class_changed, change_spans}
use Rattle.mk_edit_language.specs.EditSpans.{where_found}
use Rattle.mk_edit_language.specs.KeptLines.{respanned_bytes}
use Rattle.mk_edit_language.specs.LinesInPlace.{changed_bytes}
use Rattle.mk_edit_language.specs.RisingSpans.{Rise}
use Rattle.mk_edit_language.specs.Refusals.{spans, text_after}
use Rattle.mk_edit_language.proofs.on_edits.Accepted.{accepted}
use Rattle.mk_edit_language.proofs.on_edits.RisingSpanLemmas.{Rise-pieces, replaced-append}
use Rattle.mk_edit_language.proofs.on_edits.MadeEdits.{one_place-made}
use Rattle.mk_edit_language.proofs.on_edits.KeptByChangeValuesLemmas.{change_values-keeps}
use Rattle.mk_edit_language.proofs.on_lines.SpotLemmas.{picked-is}
use Rattle.mk_session.specs.Statement.{Has, Names, Line, Become}
use Rattle.mk_session.proofs.on_statement.CellTexts.{has-nothing, has-all, has-left, has-right}
use Rattle.mk_session.proofs.on_statement.LineWords.{names-left, names-parts, names-in, assign-line, assign-names}
use Rattle.mk_session.proofs.on_statement.PlacedLines.{Nothing, lines-become}

-- ---- a value that is changed

-- the text that a change puts into a value
abbrev put_in : ValueChange → List ℕ
put_in (Set v) = v
put_in (SetIf o v) = v
put_in (Append v) = v
put_in (Add w) = w
put_in (Remove w) = []

-- replacements that begin behind a front leave the front
front-stays : (at n b : ℕ) (front rest : List ℕ) (rs : List Replacement) → n ≡ at + length front → Rise n b rs → (new : List ℕ) × (replaced at (front ++ rest) rs ≡ front ++ new)
front-stays at n b front rest rs e h =
    let k : Rise (at + length front) b rs = subst (λ z. Rise z b rs) e h in
    let none : at ≤ at + length front = omega arith in
    (replaced (at + length front) rest rs, replaced-append at b front rest [] rs none k)

-- the replacements of a change begin behind what stands before the value
set-rises : (v : List ℕ) (at : ℕ) (a : Assignment Cell) → (b : ℕ) × Rise (value_start at a) b (set_value_span v at a ∷ [])
set-rises v at a = go (is_empty v) refl
  where
    go : (x : Bool) → is_empty v ≡ x → (b : ℕ) × Rise (value_start at a) b (set_value_span v at a ∷ [])
    go true e = (blanks_end at a, (omega arith, rw e (omega arith), rw e (omega arith)))
    go false e = (value_end at a, (omega arith, rw e (omega arith), rw e (omega arith)))

change-rises : (c : ValueChange) (at : ℕ) (a : Assignment Cell) → (b : ℕ) × Rise (value_start at a) b (change_spans c at a)
change-rises (Set v) at a = set-rises v at a
change-rises (SetIf o v) at a = set-rises v at a
change-rises (Append v) at a = (value_end at a, (omega arith, omega arith, omega arith))
change-rises (Add w) at a = (value_end at a, (omega arith, omega arith, omega arith))
change-rises (Remove w) at a = go (is_empty (staying w (led_words a.value))) refl
  where
    ps : List Piece
    ps = remove_word_pieces w (led_words a.value)

    go : (x : Bool) → is_empty (staying w (led_words a.value)) ≡ x → (b : ℕ) × Rise (value_start at a) b (remove_word_spans w at a)
    go true e = let r = set-rises [] at a in (r.0, rw e r.1)
    go false e = (value_start at a + length (old_bytes (remove_word_pieces w (led_words a.value))), rw e (Rise-pieces (value_start at a) (remove_word_pieces w (led_words a.value))))

-- an assignment's line after a change names the variable
changed-names : (ctx : Context) (n l : List ℕ) (k : Class Cell) (c : ValueChange) (at : ℕ) → class_of ctx l ≡ k → assigns n k ≡ true → Names n 61 (replaced at l (assignment_spans (change_spans c) at k))
changed-names ctx n l k c at e h =
    let L = assign-line ctx n l k e h in
    let a = L.assigned in
    let F = raw_text (concat (before_value a)) in
    let R = change-rises c at a in
    let S = front-stays at (value_start at a) R.0 F L.rest (change_spans c at a) refl R.1 in
    let spans_are : assignment_spans (change_spans c) at k ≡ change_spans c at a = ap (assignment_spans (change_spans c) at) L.class_is in
    let made : replaced at l (assignment_spans (change_spans c) at k) ≡ F ++ S.0 = ap (λ z. replaced at l z) spans_are ∙ (ap (λ z. replaced at z (change_spans c at a)) L.whole ∙ S.1) in
    names-in n 61 (replaced at l (assignment_spans (change_spans c) at k)) (F ++ S.0) made (names-left n 61 F S.0 L.front)

-- a replacement puts its text in
first-put : (at : ℕ) (l : List ℕ) (r : Replacement) (rs : List Replacement) → Has r.new (replaced at l (r ∷ rs))
first-put at l r rs = (take (r.start - at) l, replaced r.end (drop (r.end - at) l) rs, refl)

append-has : (v : List ℕ) (a : Assignment Cell) → Has v (if is_empty a.value then v else 32 ∷ v)
append-has v a = go (is_empty a.value)
  where
    go : (x : Bool) → Has v (if x then v else 32 ∷ v)
    go true = has-all v
    go false = (32 ∷ [], [], ap (λ z. 32 ∷ z) (sym (append-nil v)))

append-put : (v : List ℕ) (at : ℕ) (a : Assignment Cell) (l : List ℕ) → Has v (replaced at l (append_value_span v at a ∷ []))
append-put v at a l =
    let r = append_value_span v at a in
    let back = replaced r.end (drop (r.end - at) l) [] in
    has-right v (take (r.start - at) l) (r.new ++ back) (has-left v r.new back (append-has v a))

-- an assignment's line after a change has the text that is put in
changed-has : (ctx : Context) (n l : List ℕ) (k : Class Cell) (c : ValueChange) (at : ℕ) → class_of ctx l ≡ k → assigns n k ≡ true → Has (put_in c) (replaced at l (assignment_spans (change_spans c) at k))
changed-has ctx n l k c at e h =
    let L = assign-line ctx n l k e h in
    let spans_are : assignment_spans (change_spans c) at k ≡ change_spans c at L.assigned = ap (assignment_spans (change_spans c) at) L.class_is in
    subst (λ z. Has (put_in c) (replaced at l z)) (sym spans_are) (go c L.assigned)
  where
    go : (c : ValueChange) (a : Assignment Cell) → Has (put_in c) (replaced at l (change_spans c at a))
    go (Set v) a = first-put at l (set_value_span v at a) []
    go (SetIf o v) a = first-put at l (set_value_span v at a) []
    go (Append v) a = append-put v at a l
    go (Add w) a = append-put w at a l
    go (Remove w) a = has-nothing (replaced at l (remove_word_spans w at a))

-- ---- one value

-- what an address means, where some lines are touched
pub some-mapped : {A B : Type 0} (f : A → B) (o : Option A) (y : B) → option_map f o ≡ Some y → (x : A) × (o ≡ Some x) × (f x ≡ y)
some-mapped f None y e = absurd (cc)
some-mapped f (Some x) y e = (x, refl, cc)

-- where a line is put in, no line is touched
pub no-lines : (o : Option Stretch) (s : Stretch) → option_map between o ≡ Some s → bytes_of s.lines ≡ []
no-lines o s e = let M = some-mapped between o s e in ap (λ (z : Stretch). bytes_of z.lines) (sym M.2)

-- the assignment that a change means
record IsNamedSpot (ls : List ClassedLine) (n : List ℕ) (s : StandingLine) : Type 0 where
  whole : ls ≡ s.above ++ s.line ∷ s.below
  passes : assigns n s.line.class ≡ true

named-spot : (ls : List ClassedLine) (nth : Option ℕ) (n : List ℕ) (c : ValueChange) (s : StandingLine) → found ls (value_address nth n c) ≡ Some s → IsNamedSpot ls n s
named-spot ls nth n c s h = go c h
  where
    named : found ls (Variable nth n) ≡ Some s → IsNamedSpot ls n s
    named k = let S = picked-is (λ l. assigns n l.class) ls nth s k in record { whole = S.whole; passes = S.passes }

    go : (c : ValueChange) → found ls (value_address nth n c) ≡ Some s → IsNamedSpot ls n s
    go (SetIf o v) k =
        let S = picked-is (λ l. assigns n l.class && has_value o l.class) ls nth s k in
        record { whole = S.whole; passes = (and_parts (assigns n s.line.class) (has_value o s.line.class) S.passes).0 }
    go (Set v) k = named k
    go (Append v) k = named k
    go (Add w) k = named k
    go (Remove w) k = named k

-- the value of one assignment becomes another
pub value-stated : (nth : Option ℕ) (n : List ℕ) (c : ValueChange) (t : List ℕ) (rs : List Replacement) → spans t (ChangeValue (One nth) n c) ≡ Ok rs
    → Become (Line n 61 []) (Line n 61 (put_in c)) (logical_lines t) (logical_lines (text_after t (ChangeValue (One nth) n c)))
value-stated nth n c t rs h =
    let e = ChangeValue (One nth) n c in
    let K = (one_place-made e tt t rs h).kept in
    let M = some-mapped this_line (found (classed_lines t) (value_address nth n c)) K.touched K.place in
    let s = M.0 in
    let S = named-spot (classed_lines t) nth n c s M.1 in
    let L = line-in_text t s.above s.line s.below S.whole in
    let at = length (text_of s.above) in
    let touched : touched_by (classed_lines t) e ≡ Some (this_line s) = ap (option_map this_line) M.1 in
    let spans_are : rs ≡ assignment_spans (change_spans c) at s.line.class = sym (accepted t e rs h).spans_are ∙ ap (where_found (value_spans (change_spans c))) M.1 in
    let m = replaced at s.line.bytes (assignment_spans (change_spans c) at s.line.class) in
    let new : respanned_bytes (this_line s) rs ≡ m = ap (λ z. replaced at z rs) (append-nil s.line.bytes) ∙ ap (λ z. replaced at s.line.bytes z) spans_are in
    lines-become (Line n 61 []) (Line n 61 (put_in c)) t e rs (this_line s) touched h
    (s.line.bytes, refl, assign-names (context_of s.above) n s.line.bytes s.line.class L.class S.passes, has-nothing s.line.bytes)
    (m, ap (λ z. z ∷ []) new, changed-names (context_of s.above) n s.line.bytes s.line.class c at L.class S.passes, changed-has (context_of s.above) n s.line.bytes s.line.class c at L.class S.passes)

-- ---- every value of a name

line-stated : (ctx : Context) (n : List ℕ) (c : ValueChange) (l : ClassedLine) → class_of ctx l.bytes ≡ l.class → (changed_bytes n c l ≡ l.bytes) ⊎ (Names n 61 l.bytes × Names n 61 (changed_bytes n c l))
line-stated ctx n c l e = go (is_class_changed n c l.class) refl
  where
    go : (x : Bool) → is_class_changed n c l.class ≡ x → (changed_bytes n c l ≡ l.bytes) ⊎ (Names n 61 l.bytes × Names n 61 (changed_bytes n c l))
    go true k =
        let h : assigns n l.class ≡ true = (and_parts (assigns n l.class) (has_effect c (Some l.class)) k).0 in
        let same : changed_bytes n c l ≡ replaced 0 l.bytes (assignment_spans (change_spans c) 0 l.class) = ap (λ (b : Bool). replaced 0 l.bytes (cond b (assignment_spans (change_spans c) 0 l.class) [])) k in
        inr (assign-names ctx n l.bytes l.class e h, names-in n 61 (changed_bytes n c l) (replaced 0 l.bytes (assignment_spans (change_spans c) 0 l.class)) same (changed-names ctx n l.bytes l.class c 0 e h))
    go false k = inl (ap (λ (b : Bool). replaced 0 l.bytes (cond b (assignment_spans (change_spans c) 0 l.class) [])) k)

all-stated : (ctx : Context) (n : List ℕ) (c : ValueChange) (ls : List ClassedLine) → AreClassed ctx ls → AllZip (λ l m. (m ≡ l) ⊎ (Names n 61 l × Names n 61 m)) (bytes_of ls) (map (changed_bytes n c) ls)
all-stated ctx n c [] h = tt
all-stated ctx n c (l ∷ ls) h = (line-stated ctx n c l (AreClassed-class ctx l ls h), all-stated (context_after ctx l.class) n c ls (AreClassed-tail ctx l ls h))

pub values-stated : (n : List ℕ) (c : ValueChange) (t : List ℕ) (rs : List Replacement) → spans t (ChangeValue Every n c) ≡ Ok rs
    → AllZip (λ l m. (m ≡ l) ⊎ (Names n 61 l × Names n 61 m)) (logical_lines t) (logical_lines (text_after t (ChangeValue Every n c)))
values-stated n c t rs h =
    let ls = classed_lines t in
    let P : List ℕ → List ℕ → Type 0 = λ l m. (m ≡ l) ⊎ (Names n 61 l × Names n 61 m) in
    let K = change_values-keeps n c t rs h in
    let are = all-stated start n c ls (AreClassed-lines t ls refl) in
    subst (λ z. AllZip P z (logical_lines (text_after t (ChangeValue Every n c)))) (bytes_of-classed start (logical_lines t))
    (subst (λ z. AllZip P (bytes_of ls) z) (sym K.lines) are)

-- ---- an assignment that goes

pub unset-stated : (nth : Option ℕ) (n t : List ℕ) (rs : List Replacement) → spans t (RemoveLines (OfAssign nth n)) ≡ Ok rs
    → Become (Line n 61 []) Nothing (logical_lines t) (logical_lines (text_after t (RemoveLines (OfAssign nth n))))
unset-stated nth n t rs h =
    let e = RemoveLines (OfAssign nth n) in
    let K = (one_place-made e tt t rs h).kept in
    let M = some-mapped this_line (found (classed_lines t) (Variable nth n)) K.touched K.place in
    let s = M.0 in
    let S = picked-is (λ l. assigns n l.class) (classed_lines t) nth s M.1 in
    let L = line-in_text t s.above s.line s.below S.whole in
    lines-become (Line n 61 []) Nothing t e rs (this_line s) (ap (option_map this_line) M.1) h
    (s.line.bytes, refl, assign-names (context_of s.above) n s.line.bytes s.line.class L.class S.passes, has-nothing s.line.bytes) refl

-- ---- a new assignment

operator-has : (f : Flavor) → Has (61 ∷ []) (operator_text f)
operator-has flavor.Recursive = ([], [], refl)
operator-has flavor.Simple = (codes ":", [], refl)
operator-has flavor.PosixSimple = (codes "::", [], refl)
operator-has flavor.Immediate = (codes ":::", [], refl)
operator-has flavor.Conditional = (codes "?", [], refl)
operator-has flavor.Append = (codes "+", [], refl)
operator-has flavor.Shell = (codes "!", [], refl)

space-has : (v : List ℕ) → Has v (after_space v)
space-has [] = has-nothing []
space-has (b ∷ v) = (32 ∷ [], [], ap (λ z. 32 ∷ z) (sym (append-nil (b ∷ v))))

pub assign-stated : (p : Place) (n : List ℕ) (f : Flavor) (v t : List ℕ) (rs : List Replacement) → spans t (AddLine p (NewAssign n f v)) ≡ Ok rs
    → Become Nothing (Line n 61 v) (logical_lines t) (logical_lines (text_after t (AddLine p (NewAssign n f v))))
assign-stated p n f v t rs h =
    let e = AddLine p (NewAssign n f v) in
    let K = (one_place-made e tt t rs h).kept in
    let end = new_line_end t in
    let O = operator_text f in
    let V = after_space v in
    let m = assign_text n f v ++ end in
    let split : m ≡ n ++ ((32 ∷ (O ++ V)) ++ end) = append_assoc n (32 ∷ (O ++ V)) end in
    let sign : Has (61 ∷ []) ((32 ∷ (O ++ V)) ++ end) = has-left (61 ∷ []) (32 ∷ (O ++ V)) end (has-right (61 ∷ []) (32 ∷ []) (O ++ V) (has-left (61 ∷ []) O V (operator-has f))) in
    let names : Names n 61 m = names-in n 61 m (n ++ ((32 ∷ (O ++ V)) ++ end)) split (names-parts n 61 [] ((32 ∷ (O ++ V)) ++ end) (inl refl) (32, (O ++ V) ++ end, refl, (2, omega arith, refl)) sign) in
    let value : Has v m = has-left v (assign_text n f v) end (has-right v n (32 ∷ (O ++ V)) (has-right v (32 ∷ []) (O ++ V) (has-right v O V (space-has v)))) in
    lines-become Nothing (Line n 61 v) t e rs K.touched K.place h (no-lines (place_found (classed_lines t) p) K.touched K.place) (m, refl, names, value)
