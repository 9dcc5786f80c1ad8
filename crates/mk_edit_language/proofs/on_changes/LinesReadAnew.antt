-- A line that is checked by reading: if the new line fits, and reads as it is said to, it stands in the place of the old one, and
-- the other lines stay.
use Rattle.std.proofs.Common.{◌≡◌, refl, sym, ap, ◌∙◌, ℕ, List, [], ◌∷◌, ◌++◌, map, Bool, true, false, not, ◌||◌, length, ◌+◌, Some, None}
use Rattle.std.proofs.lemmas.Bool.{and_parts}
use Rattle.std.proofs.lemmas.List.{append-nil}
use Rattle.std.proofs.lemmas.Slice.Eq.{bytes_eq-Decides}
use Rattle.std.specs.Str.{bytes_eq}
use Rattle.mk_lines.specs.Lists.{concat}
use Rattle.mk_lines.specs.LogicalLines.{logical_lines, is_open, ends_line}
use Rattle.mk_lines.proofs.on_lines.LineLemmas.{OneLine, OneLine-of, EndsBefore, concat-logical_lines}
use Rattle.mk_lines.proofs.on_lines.LineEndLemmas.{ends_line-ends, Ends-ends_line}
use Rattle.mk_lines.specs.Pieces.{Replacement, replaced}
use Rattle.mk_lines.specs.Cells.{Cell}
use Rattle.mk_class.specs.Symbols.{byte_symbol}
use Rattle.mk_class.specs.OperatorTexts.{operator_text}
use Rattle.mk_class.specs.Assignments.{Assignment, operator_at}
use Rattle.mk_class.specs.Classes.{Class}
use Rattle.mk_class.specs.Classes.Class.{Endef, Body, Recipe, Opaque, Blank, Comment, Assign, DefineHead, If, Else, Endif, Directive, TargetAssign, Rough, Header}
use Rattle.mk_class.specs.Contexts.{context_after}
use Rattle.mk_class.specs.ClassTable.{class_of}
use Rattle.mk_class.specs.ClassedLines.{ClassedLine, classed_lines}
use Rattle.mk_class.specs.declared.assignment.Flavor.{Flavor}
use Rattle.mk_class.specs.declared.assignment.Flavor.TheVariants.{Recursive, Simple, PosixSimple, Immediate, Conditional, Append, Shell}
use Rattle.mk_class.specs.declared.assignment.Modifier.{Modifier}
use Rattle.mk_class.specs.declared.assignment.Modifier.TheVariants.{Override, Export, Private}
use Rattle.mk_tree.specs.Documents.{text_of, context_of}
use Rattle.mk_tree.specs.Items.{Assigned, Sets, assigned, Assign as AssignItem}
use Rattle.mk_tree.proofs.on_documents.LinesInText.{line-in_text, bytes_of}
use Rattle.mk_edit_language.specs.LineChanges.{modifier_number, is_same_assigned, reads_as, is_one, fits_line}
use Rattle.mk_edit_language.specs.RisingSpans.{Rise}
use Rattle.mk_edit_language.proofs.on_edits.RisingSpanLemmas.{Rise-within}
use Rattle.mk_edit_language.proofs.on_lines.LineReplaced.{IsLineReplaced, replaced-line, replaced-same}

-- ---- the same assignment

same-modifier : (a b : Modifier) → modifier_number a ≡ modifier_number b → a ≡ b
same-modifier Override Override h = refl
same-modifier Export Export h = refl
same-modifier Private Private h = refl
same-modifier a b h = absurd (cc)

same-modifiers : (ms ns : List Modifier) → map modifier_number ms ≡ map modifier_number ns → ms ≡ ns
same-modifiers [] [] h = refl
same-modifiers [] (n ∷ ns) h = absurd (cc)
same-modifiers (m ∷ ms) [] h = absurd (cc)
same-modifiers (m ∷ ms) (n ∷ ns) h =
    let a : m ≡ n = same-modifier m n (cc) in
    let b : ms ≡ ns = same-modifiers ms ns (cc) in
    cc

-- the operator that a text begins with is the flavor whose text it is
flavor-told : (f : Flavor) → operator_at (map byte_symbol (operator_text f)) ≡ Some f
flavor-told Recursive = refl
flavor-told Simple = refl
flavor-told PosixSimple = refl
flavor-told Immediate = refl
flavor-told Conditional = refl
flavor-told Append = refl
flavor-told Shell = refl

same-flavor : (f g : Flavor) → operator_text f ≡ operator_text g → f ≡ g
same-flavor f g h =
    let e : Some f ≡ Some g = sym (flavor-told f) ∙ (ap (λ z. operator_at (map byte_symbol z)) h ∙ flavor-told g) in
    cc

same-assigned : (x y : Assigned) → is_same_assigned x y ≡ true → x ≡ y
same-assigned (Sets m n f v) (Sets m' n' f' v') h =
    let a = and_parts (bytes_eq (map modifier_number m) (map modifier_number m')) _ h in
    let b = and_parts (bytes_eq n n') _ a.1 in
    let c = and_parts (bytes_eq (operator_text f) (operator_text f')) (bytes_eq v v') b.1 in
    let p : m ≡ m' = same-modifiers m m' ((bytes_eq-Decides (map modifier_number m) (map modifier_number m')).0 a.0) in
    let q : n ≡ n' = (bytes_eq-Decides n n').0 b.0 in
    let r : f ≡ f' = same-flavor f f' ((bytes_eq-Decides (operator_text f) (operator_text f')).0 c.0) in
    let s : v ≡ v' = (bytes_eq-Decides v v').0 c.1 in
    cc

-- a line of this class reads as this assignment
record IsReadAs (i : Assigned) (k : Class Cell) : Type 0 where
  assignment : Assignment Cell
  class_is : k ≡ Assign assignment None
  same : assigned assignment ≡ i

read-as : (i : Assigned) (k : Class Cell) → reads_as i k ≡ true → IsReadAs i k
read-as i (Assign a None) h = record { assignment = a; class_is = refl; same = same-assigned (assigned a) i h }
read-as i (Assign a (Some p)) h = absurd (cc)
read-as i Endef h = absurd (cc)
read-as i (Body d) h = absurd (cc)
read-as i Recipe h = absurd (cc)
read-as i Opaque h = absurd (cc)
read-as i Blank h = absurd (cc)
read-as i Comment h = absurd (cc)
read-as i (DefineHead p) h = absurd (cc)
read-as i If h = absurd (cc)
read-as i Else h = absurd (cc)
read-as i Endif h = absurd (cc)
read-as i Directive h = absurd (cc)
read-as i (TargetAssign t) h = absurd (cc)
read-as i Rough h = absurd (cc)
read-as i (Header x) h = absurd (cc)

-- ---- a line that fits

pub only-line : (ls : List (List ℕ)) (m : List ℕ) → is_one ls ≡ true → concat ls ≡ m → ls ≡ m ∷ []
only-line [] m h k = absurd (cc)
only-line (l ∷ []) m h k = ap (λ z. z ∷ []) (sym (append-nil l) ∙ k)
only-line (l ∷ l' ∷ ls) m h k = absurd (cc)

ended : (x y : Bool) → (not x || y) ≡ true → x ≡ true → y ≡ true
ended true y h k = h
ended false y h k = cc

pub ends-too : (l m : List ℕ) (below : List (List ℕ)) → (not (ends_line l) || ends_line m) ≡ true → EndsBefore l below → EndsBefore m below
ends-too l m [] h e = tt
ends-too l m (b ∷ bs) h e = ends_line-ends m (ended (ends_line l) (ends_line m) h (Ends-ends_line l e))

-- A line with its spans replaced, which fits and reads as an assignment: it stands in the place of the old one.
pub line-read_anew : (t : List ℕ) (A : List ClassedLine) (l : ClassedLine) (B : List ClassedLine) (a : Assignment Cell) (rs : List Replacement) (m : List ℕ) (i : Assigned)
    → classed_lines t ≡ A ++ l ∷ B → l.class ≡ Assign a None → Rise (length (text_of A)) (length (text_of A) + length l.bytes) rs → replaced (length (text_of A)) l.bytes rs ≡ m
    → fits_line l.bytes m ≡ true → reads_as i (class_of (context_of A) m) ≡ true → IsLineReplaced (replaced 0 t rs) A B (AssignItem i)
line-read_anew t A l B a rs m i h k r e f q =
    let L = line-in_text t A l B h in
    let C = context_of A in
    let F = and_parts (is_one (logical_lines m)) _ f in
    let G = and_parts (not (ends_line l.bytes) || ends_line m) (not (is_open m) || is_open l.bytes) F.1 in
    let R = read-as i (class_of C m) q in
    let text : replaced 0 t rs ≡ text_of A ++ (m ++ text_of B) =
    ap (λ z. replaced 0 z rs) L.text ∙ (Rise-within (text_of A) l.bytes (text_of B) rs r ∙ ap (λ z. text_of A ++ (z ++ text_of B)) e) in
    let one : OneLine m = OneLine-of m (only-line (logical_lines m) m F.0 (concat-logical_lines m)) in
    replaced-same _ _ A B _ _ (sym text) refl
    (replaced-line t A l B m (Assign R.assignment None) (AssignItem i) h one (ends-too l.bytes m (bytes_of B) G.0 L.ends) R.class_is
    (ap (context_after C) (sym k)) refl (ap (λ z. AssignItem z ∷ []) R.same))
