-- One line after a change of its value: its bytes, as the code puts them together, and its length.
use Rattle.std.proofs.Common.{◌≡◌, refl, sym, ap, ◌∙◌, subst, arith, ℕ, ◌+◌, ◌-◌, ◌≤◌, Bool, true, false, not, ◌||◌, List, [], ◌∷◌, ◌++◌, take, drop, length, length-append, append_assoc, None}
use Rattle.std.specs.Prelude.{◌==◌, IfOk, Result, Ok, Err}
use Rattle.std.proofs.lemmas.Bool.{ltb-true, ltb-false}
use Rattle.std.proofs.lemmas.List.{length-drop, length-take-le}
use Rattle.mk_lines.specs.Lists.{concat}
use Rattle.mk_lines.specs.PhysicalLines.{line_end, line_end_bytes}
use Rattle.mk_lines.specs.Cells.{Cell, joined_byte}
use Rattle.mk_lines.specs.Pieces.{Replacement, replaced, replacements, new_bytes, old_bytes}
use Rattle.mk_lines.specs.Units.{is_closed}
use Rattle.mk_lines.specs.declared.split.Span.{Span}
use Rattle.mk_lines.proofs.on_lists.PieceLemmas.{replaced-pieces}
use Rattle.mk_class.specs.ListTests.{is_empty}
use Rattle.mk_class.specs.Assignments.{Assignment}
use Rattle.mk_class.specs.Classes.Class.{Assign}
use Rattle.mk_class.specs.ClassTable.{class_of}
use Rattle.mk_class.specs.Contexts.{Context}
use Rattle.mk_class.specs.LocatedClasses.{located_class}
use Rattle.mk_class.specs.declared.assignment.Assignment as assignment
use Rattle.mk_class.specs.declared.class.Class as class
use Rattle.mk_tree.specs.LocatedLines.{LocatedLine}
use Rattle.mk_edit_language.specs.Edits.{ValueChange, Set, SetIf, Append, Add, Remove}
use Rattle.mk_edit_language.specs.LineCauses.{bares_end}
use Rattle.mk_edit_language.specs.ValueChanges.{change_spans, assignment_spans, append_value_span, set_value_span}
use Rattle.mk_edit_parts.specs.LineRanges.{value_range_located}
use Rattle.mk_edit_parts.specs.SeenAssignments.{HasAssignment, IsAssignmentAt, IsAssignmentSeen}
use Rattle.mk_edit_parts.specs.ValuePieces.{line_without_pieces}
use Rattle.mk_edit.specs.ValueChangeLines.{IsOwnLine, bytes_changed, bytes_put, is_longer, space_after, spared_by, value_text_located}
use Rattle.mk_edit.proofs.on_prerequisites.WordPlans.{nothing-put, pieces-length}
use Rattle.mk_edit.proofs.on_values.OwnLines.{IsValueText, own_line, own_rest, own-seen, own-text, own-whole}
use Rattle.mk_edit.proofs.on_values.ValuePlaces.{IsValueRange, value-range}
use Rattle.mk_edit.proofs.on_values.ValueSpans.{append_value_span-range, is_empty-length, line-nothing, line-spans, set_value_span-range}

-- what holds of an accepted result holds of it in other words
pub mapped : {X Y : Type 0} (P Q : X → Type 0) (r : Result X Y) → ((x : X) → P x → Q x) → IfOk r P → IfOk r Q
mapped P Q (Ok x) f h = f x h
mapped P Q (Err y) f h = tt

-- ---- one range replaced

one-replaced : (m v : List ℕ) (s e p q : ℕ) → s ≡ p → e ≡ q → replaced 0 m (record { start = s; end = e; new = v } ∷ []) ≡ take p m ++ (v ++ drop q m)
one-replaced m v s e p q h k =
    let x : s - 0 ≡ p = omega (arith, h) in
    let y : e - 0 ≡ q = omega (arith, k) in
    ap (λ n. take n m ++ (v ++ drop (e - 0) m)) x ∙ ap (λ n. take p m ++ (v ++ drop n m)) y

cut-length : (b v : List ℕ) (s e : ℕ) → s ≤ e → e ≤ length b → length (take s b ++ (v ++ drop e b)) + (e - s) ≡ length b + length v
cut-length b v s e h k =
    omega (arith, length-append (take s b) (v ++ drop e b), length-append v (drop e b), length-take-le s b (omega (arith, h, k)), length-drop e b, h, k)

-- ---- the line

-- the line as it is told
pub line-own : (x : Context) (l : LocatedLine) (a : Assignment Cell) → l.class ≡ located_class joined_byte (Assign a None) → l ≡ own_line l.bytes a
line-own x l a h = ap (λ (k : class.Class). record { bytes = l.bytes; class = k }) h

-- its value, with the blanks and folds after it if `b` says so
pub line-range : (x : Context) (l : LocatedLine) (a : Assignment Cell) (b : Bool) (r : Span) → class_of x l.bytes ≡ Assign a None → l.class ≡ located_class joined_byte (Assign a None) → r ≡ value_range_located b l → IsValueRange l.bytes a b r
line-range x l a b r h c k = subst (IsValueRange l.bytes a b) (sym (k ∙ ap (value_range_located b) (line-own x l a c))) (value-range x l.bytes a b h)

pub line-text : (x : Context) (l : LocatedLine) (a : Assignment Cell) (text : List ℕ) → class_of x l.bytes ≡ Assign a None → l.class ≡ located_class joined_byte (Assign a None) → text ≡ value_text_located l → IsValueText a text
line-text x l a text h c k = own-text x l.bytes a h text (k ∙ ap value_text_located (line-own x l a c))

-- the spans in it
bytes-own : (c : ValueChange) (x : Context) (l : LocatedLine) → (O : IsOwnLine c x l) → bytes_changed c x l ≡ replaced 0 l.bytes (change_spans c 0 O.assigned)
bytes-own c x l O = ap (λ k. replaced 0 l.bytes (assignment_spans (change_spans c) 0 k)) O.here

-- ---- another value

set-range : (x : Context) (l : LocatedLine) (v : List ℕ) (r : Span) → (O : IsOwnLine (Set v) x l) → r ≡ value_range_located (length v == 0) l → IsValueRange l.bytes O.assigned (is_empty v) r
set-range x l v r O k = line-range x l O.assigned (is_empty v) r O.here O.class_is (k ∙ ap (λ b. value_range_located b l) (sym (is_empty-length v)))

set-bytes : (x : Context) (l : LocatedLine) (v : List ℕ) (r : Span) → IsOwnLine (Set v) x l → r ≡ value_range_located (length v == 0) l → bytes_changed (Set v) x l ≡ take r.start l.bytes ++ (v ++ drop r.end l.bytes)
set-bytes x l v r O k =
    let s : set_value_span v 0 O.assigned ≡ record { start = 0 + r.start; end = 0 + r.end; new = v } = set_value_span-range l.bytes O.assigned v 0 r (set-range x l v r O k) in
    bytes-own (Set v) x l O ∙ (ap (λ (z : Replacement). replaced 0 l.bytes (z ∷ [])) s ∙ one-replaced l.bytes v (0 + r.start) (0 + r.end) r.start r.end (omega arith) (omega arith))

-- a value that is set in the place of another is set as any other
pub own-set : (x : Context) (l : LocatedLine) (o v : List ℕ) → IsOwnLine (SetIf o v) x l → IsOwnLine (Set v) x l
own-set x l o v O = record { assigned = O.assigned; here = O.here; class_is = O.class_is; not_open = refl }

-- what the code asks of the range
pub record IsSetRange (l : LocatedLine) (r : Span) : Type 0 where
  pub rises : r.start ≤ r.end
  pub within : r.end ≤ length l.bytes

pub set-ranged : (x : Context) (l : LocatedLine) (v : List ℕ) (r : Span) → IsOwnLine (Set v) x l → r ≡ value_range_located (length v == 0) l → IsSetRange l r
set-ranged x l v r O k = let R = set-range x l v r O k in record { rises = R.rises; within = R.within }

pub set-changed : (x : Context) (l : LocatedLine) (v bytes m : List ℕ) (r : Span) → IsOwnLine (Set v) x l → r ≡ value_range_located (length v == 0) l → bytes ≡ l.bytes → m ≡ take r.start bytes ++ (v ++ drop r.end bytes)
    → m ≡ bytes_changed (Set v) x l
set-changed x l v bytes m r O k b h = h ∙ (ap (λ z. take r.start z ++ (v ++ drop r.end z)) b ∙ sym (set-bytes x l v r O k))

-- ---- a text after the value

-- a change that puts this text after the value
abbrev PutsAfter : ValueChange → List ℕ → Type 0
PutsAfter c v = (a : Assignment Cell) → change_spans c 0 a ≡ append_value_span v 0 a ∷ []

pub put-bytes : (c : ValueChange) (x : Context) (l : LocatedLine) (v : List ℕ) → PutsAfter c v → IsOwnLine c x l
    → bytes_changed c x l ≡ bytes_put v l
put-bytes c x l v p O =
    let r = value_range_located false l in
    let text = value_text_located l in
    let R = line-range x l O.assigned false r O.here O.class_is refl in
    let T = line-text x l O.assigned text O.here O.class_is refl in
    let new = space_after text ++ v in
    let s : append_value_span v 0 O.assigned ≡ record { start = 0 + r.end; end = 0 + r.end; new = new } = append_value_span-range l.bytes O.assigned v text 0 r R T in
    bytes-own c x l O ∙ (ap (replaced 0 l.bytes) (p O.assigned) ∙ (ap (λ (z : Replacement). replaced 0 l.bytes (z ∷ [])) s ∙ one-replaced l.bytes new (0 + r.end) (0 + r.end) r.end r.end (omega arith) (omega arith)))

pub put-within : (c : ValueChange) (x : Context) (l : LocatedLine) → IsOwnLine c x l → (value_range_located false l).end ≤ length l.bytes
put-within c x l O = (line-range x l O.assigned false (value_range_located false l) O.here O.class_is refl).within

-- the line with a space and the text put in there
appended-line : (m bytes space text v : List ℕ) (at : ℕ) → m ≡ take at bytes ++ (space ++ (v ++ drop at bytes)) → space ≡ space_after text → m ≡ take at bytes ++ ((space_after text ++ v) ++ drop at bytes)
appended-line m bytes space text v at h s = h ∙ (ap (λ z. take at bytes ++ (z ++ (v ++ drop at bytes))) s ∙ ap (λ z. take at bytes ++ z) (sym (append_assoc (space_after text) v (drop at bytes))))

-- as the code puts them together
pub put-formed : (l : LocatedLine) (v bytes space text m : List ℕ) (r : Span) → r ≡ value_range_located false l → bytes ≡ l.bytes → text ≡ value_text_located l → space ≡ space_after text → m ≡ take r.end bytes ++ (space ++ (v ++ drop r.end bytes))
    → m ≡ bytes_put v l
put-formed l v bytes space text m r k b t s h =
    appended-line m bytes space text v r.end h s
    ∙ (ap (λ (z : Span). take z.end bytes ++ ((space_after text ++ v) ++ drop z.end bytes)) k
    ∙ (ap (λ z. take (value_range_located false l).end z ++ ((space_after text ++ v) ++ drop (value_range_located false l).end z)) b
    ∙ ap (λ z. take (value_range_located false l).end l.bytes ++ ((space_after z ++ v) ++ drop (value_range_located false l).end l.bytes)) t))

-- ---- a word less

closed-if : (c b : Bool) → (not c || b) ≡ false → c ≡ true
closed-if true b h = refl
closed-if false b h = absurd (cc)

remove-closed : (x : Context) (l : LocatedLine) (w : List ℕ) → (O : IsOwnLine (Remove w) x l) → is_closed joined_byte (concat O.assigned.value) ≡ true
remove-closed x l w O = closed-if (is_closed joined_byte (concat O.assigned.value)) (bares_end w O.assigned) O.not_open

remove-bytes : (x : Context) (l : LocatedLine) (w : List ℕ) → (O : IsOwnLine (Remove w) x l)
    → bytes_changed (Remove w) x l ≡ new_bytes (line_without_pieces w O.assigned (own_rest x l.bytes O.assigned O.here)) ++ line_end_bytes (line_end l.bytes)
remove-bytes x l w O =
    let a = O.assigned in
    let ps = line_without_pieces w a (own_rest x l.bytes a O.here) in
    let E = line_end_bytes (line_end l.bytes) in
    bytes-own (Remove w) x l O
    ∙ (ap (replaced 0 l.bytes) (line-spans 0 w a (own_rest x l.bytes a O.here))
    ∙ (ap (λ z. replaced 0 z (replacements 0 ps)) (own-whole x l.bytes a O.here w (remove-closed x l w O)) ∙ replaced-pieces [] ps E))

line-seen : (c : ValueChange) (x : Context) (l : LocatedLine) (at : assignment.Assignment) → (O : IsOwnLine c x l) → IsAssignmentAt l at → IsAssignmentSeen l at O.assigned (own_rest x l.bytes O.assigned O.here)
line-seen c x l at O q =
    let seen = line-own x l O.assigned O.class_is in
    subst (λ (z : LocatedLine). IsAssignmentSeen z at O.assigned (own_rest x l.bytes O.assigned O.here)) (sym seen)
    (own-seen x l.bytes O.assigned O.here at (subst (λ (z : LocatedLine). IsAssignmentAt z at) seen q))

pub own-has : (c : ValueChange) (x : Context) (l : LocatedLine) (at : assignment.Assignment) → IsOwnLine c x l → IsAssignmentAt l at → HasAssignment l at
own-has c x l at O q = record { assigned = O.assigned; rest = own_rest x l.bytes O.assigned O.here; seen = line-seen c x l at O q }

pub remove-changed : (x : Context) (l : LocatedLine) (w m : List ℕ) (at : assignment.Assignment) → IsOwnLine (Remove w) x l → IsAssignmentAt l at
    → ((a : Assignment Cell) (r : List Cell) → IsAssignmentSeen l at a r → m ≡ new_bytes (line_without_pieces w a r) ++ line_end_bytes (line_end l.bytes)) → m ≡ bytes_changed (Remove w) x l
remove-changed x l w m at O q h = h O.assigned (own_rest x l.bytes O.assigned O.here) (line-seen (Remove w) x l at O q) ∙ sym (remove-bytes x l w O)

-- ---- lengths

set-length : (x : Context) (l : LocatedLine) (v : List ℕ) → IsOwnLine (Set v) x l → length (bytes_changed (Set v) x l) + spared_by (Set v) l ≡ length l.bytes + length v
set-length x l v O =
    let r = value_range_located (length v == 0) l in
    let R = set-ranged x l v r O refl in
    ap (λ z. length z + (r.end - r.start)) (set-bytes x l v r O refl) ∙ cut-length l.bytes v r.start r.end R.rises R.within

put-length : (c : ValueChange) (x : Context) (l : LocatedLine) (v : List ℕ) → PutsAfter c v → IsOwnLine c x l → length l.bytes ≤ length (bytes_changed c x l)
put-length c x l v p O =
    let e = (value_range_located false l).end in
    let new = space_after (value_text_located l) ++ v in
    omega (arith, ap length (put-bytes c x l v p O), cut-length l.bytes new e e (omega arith) (put-within c x l O))

remove-length : (x : Context) (l : LocatedLine) (w : List ℕ) → IsOwnLine (Remove w) x l → length (bytes_changed (Remove w) x l) ≤ length l.bytes
remove-length x l w O =
    let a = O.assigned in
    let r = own_rest x l.bytes a O.here in
    let ps = line_without_pieces w a r in
    let E = line_end_bytes (line_end l.bytes) in
    omega (
      arith,
      ap length (remove-bytes x l w O),
      length-append (new_bytes ps) E,
      ap length (own-whole x l.bytes a O.here w (remove-closed x l w O)),
      length-append (old_bytes ps) E,
      pieces-length 0 ps,
      nothing-put 0 ps (line-nothing w a r),
    )

-- a line that does not get longer gets no longer
pub no-longer : (c : ValueChange) (x : Context) (l : LocatedLine) → IsOwnLine c x l → is_longer c l ≡ false → length (bytes_changed c x l) ≤ length l.bytes
no-longer (Set v) x l O h = omega (arith, set-length x l v O, ltb-false (spared_by (Set v) l) (length v) h)
no-longer (SetIf o v) x l O h = omega (arith, set-length x l v (own-set x l o v O), ltb-false (spared_by (Set v) l) (length v) h)
no-longer (Append v) x l O h = absurd (cc)
no-longer (Add w) x l O h = absurd (cc)
no-longer (Remove w) x l O h = remove-length x l w O

pub longer : (c : ValueChange) (x : Context) (l : LocatedLine) → IsOwnLine c x l → is_longer c l ≡ true → length l.bytes ≤ length (bytes_changed c x l)
longer (Set v) x l O h = omega (arith, set-length x l v O, ltb-true (spared_by (Set v) l) (length v) h)
longer (SetIf o v) x l O h = omega (arith, set-length x l v (own-set x l o v O), ltb-true (spared_by (Set v) l) (length v) h)
longer (Append v) x l O h = put-length (Append v) x l v (λ a. refl) O
longer (Add w) x l O h = put-length (Add w) x l w (λ a. refl) O
longer (Remove w) x l O h = absurd (cc)
