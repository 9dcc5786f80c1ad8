-- The assignment that an accepted edit of a variable means: a line of the text, of class Assign, that sets no recipe prefix.
use Rattle.std.proofs.Common.{◌≡◌, refl, sym, ap, ◌∙◌, subst, ℕ, List, [], ◌∷◌, ◌++◌, Bool, true, false, Option, Some, None}
use Rattle.std.proofs.lemmas.Bool.{and_parts}
use Rattle.std.specs.Prelude.{nat_lt, not, ◌&&◌}
use Rattle.mk_lines.specs.Cells.{Cell, joined_byte, line_cells}
use Rattle.mk_lines.specs.Units.{units}
use Rattle.mk_class.specs.Texts.{unit_text}
use Rattle.mk_class.specs.Assignments.{Assignment}
use Rattle.mk_class.specs.RecipePrefix.{is_prefix_led, is_prefix_name, prefix_set_by}
use Rattle.mk_class.specs.Classes.{Class}
use Rattle.mk_class.specs.Classes.Class.{Endef, Body, Recipe, Opaque, Blank, Comment, Assign, DefineHead, If, Else, Endif, Directive, TargetAssign, Rough, Header}
use Rattle.mk_class.specs.Contexts.{Context}
use Rattle.mk_class.specs.ClassTable.{class_of}
use Rattle.mk_class.proofs.on_classes.ClassLemmas.{plain_class-assign, assign-plain_class, class_at-assign}
use Rattle.mk_class.specs.ClassedLines.{ClassedLine, classed_lines}
use Rattle.std.proofs.lemmas.Slice.Eq.{bytes_eq-Decides}
use Rattle.mk_tree.specs.Documents.{context_of}
use Rattle.mk_tree.proofs.on_documents.LinesInText.{line-in_text}
use Rattle.mk_tree.specs.LineTexts.{StandingLine}
use Rattle.mk_tree.specs.Items.{items_of_line}
use Rattle.mk_edit_language.specs.Spots.{spots}
use Rattle.mk_edit_language.specs.Addresses.{Address, Variable, Valued, assigns, has_value, value_address, found}
use Rattle.mk_edit_language.specs.Edits.{One, ValueChange, Set, SetIf, Append, Add, Remove, ChangeValue}
use Rattle.mk_edit_language.specs.ValueChanges.{has_effect}
use Rattle.mk_edit_language.specs.AddressCauses.{is_missing, is_several, no_such, ambiguous}
use Rattle.mk_edit_language.specs.RuleCauses.{class_found, absent}
use Rattle.mk_edit_language.specs.declared.refusal.Refusal.TheVariants.{Absent}
use Rattle.mk_edit_language.specs.Changes.{item_with_value}
use Rattle.mk_edit_language.proofs.on_edits.Accepted.{spot-picked, where_holds-none}
use Rattle.mk_edit_language.proofs.on_lines.SpotLemmas.{picked-is}

-- an assignment of another name sets no prefix
pub no_prefix-set : (c : Bool) (a : Assignment Cell) → is_prefix_name (unit_text joined_byte a.name) ≡ false → prefix_set_by joined_byte c a ≡ None
no_prefix-set c a h = rw h refl

same_prefix : (a b : Assignment Cell) (p q : Option ℕ) → Assign a p ≡ Assign b q → p ≡ q
same_prefix a b p q h = cc

-- the class of an assignment's line has the prefix that the assignment sets
pub prefix-of_class : (c : Context) (l : List ℕ) (a : Assignment Cell) (p : Option ℕ) → class_of c l ≡ Assign a p → p ≡ prefix_set_by joined_byte (nat_lt 0 c.conditionals) a
prefix-of_class c l a p h =
    let led = is_prefix_led c.prefix l in
    let r = class_at-assign led c.defines c.flag (nat_lt 0 c.conditionals) (line_cells l) (units joined_byte (line_cells l)) a p h in
    let i = plain_class-assign led (nat_lt 0 c.conditionals) (line_cells l) (units joined_byte (line_cells l)) a p r.here in
    let k = assign-plain_class led (nat_lt 0 c.conditionals) (line_cells l) (units joined_byte (line_cells l)) a i in
    same_prefix a a p (prefix_set_by joined_byte (nat_lt 0 c.conditionals) a) (sym r.here ∙ k)

-- a line of this class assigns the variable
record IsNamed (n : List ℕ) (k : Class Cell) : Type 0 where
  assigned : Assignment Cell
  sets : Option ℕ
  class_is : k ≡ Assign assigned sets
  name_is : unit_text joined_byte assigned.name ≡ n

assigns-named : (n : List ℕ) (k : Class Cell) → assigns n k ≡ true → IsNamed n k
assigns-named n (Assign a s) h = record { assigned = a; sets = s; class_is = refl; name_is = (bytes_eq-Decides (unit_text joined_byte a.name) n).0 h }
assigns-named n Endef h = absurd (cc)
assigns-named n (Body d) h = absurd (cc)
assigns-named n Recipe h = absurd (cc)
assigns-named n Opaque h = absurd (cc)
assigns-named n Blank h = absurd (cc)
assigns-named n Comment h = absurd (cc)
assigns-named n (DefineHead p) h = absurd (cc)
assigns-named n If h = absurd (cc)
assigns-named n Else h = absurd (cc)
assigns-named n Endif h = absurd (cc)
assigns-named n Directive h = absurd (cc)
assigns-named n (TargetAssign t) h = absurd (cc)
assigns-named n Rough h = absurd (cc)
assigns-named n (Header x) h = absurd (cc)

-- a line that reads as an assignment assigns that name
read-named : (k : Class Cell) (l : List ℕ) (a : Assignment Cell) (v : List ℕ) → items_of_line k l ≡ item_with_value a v ∷ [] → IsNamed (unit_text joined_byte a.name) k
read-named (Assign b s) l a v h = record { assigned = b; sets = s; class_is = refl; name_is = cc }
read-named Endef l a v h = absurd (cc)
read-named (Body d) l a v h = absurd (cc)
read-named Recipe l a v h = absurd (cc)
read-named Opaque l a v h = absurd (cc)
read-named Blank l a v h = absurd (cc)
read-named Comment l a v h = absurd (cc)
read-named (DefineHead p) l a v h = absurd (cc)
read-named If l a v h = absurd (cc)
read-named Else l a v h = absurd (cc)
read-named Endif l a v h = absurd (cc)
read-named Directive l a v h = absurd (cc)
read-named (TargetAssign t) l a v h = absurd (cc)
read-named Rough l a v h = absurd (cc)
read-named (Header x) l a v h = absurd (cc)

-- a line of class Assign that sets no recipe prefix
pub record IsAssigned (l : ClassedLine) : Type 0 where
  pub assigned : Assignment Cell
  pub class_is : l.class ≡ Assign assigned None
  pub no_prefix : is_prefix_name (unit_text joined_byte assigned.name) ≡ false

assigned-there : (c : Context) (n : List ℕ) (l : ClassedLine) → class_of c l.bytes ≡ l.class → IsNamed n l.class → is_prefix_name n ≡ false → IsAssigned l
assigned-there c n l h m f =
    let g : is_prefix_name (unit_text joined_byte m.assigned.name) ≡ false = subst (λ z. is_prefix_name z ≡ false) (sym m.name_is) f in
    let p : m.sets ≡ None = prefix-of_class c l.bytes m.assigned m.sets (h ∙ m.class_is) ∙ no_prefix-set (nat_lt 0 c.conditionals) m.assigned g in
    record { assigned = m.assigned; class_is = m.class_is ∙ ap (Assign m.assigned) p; no_prefix = g }

-- a line that assigns a name other than that of the prefix, in its context
pub assigned-in_context : (c : Context) (n : List ℕ) (l : ClassedLine) → class_of c l.bytes ≡ l.class → assigns n l.class ≡ true → is_prefix_name n ≡ false → IsAssigned l
assigned-in_context c n l h k f = assigned-there c n l h (assigns-named n l.class k) f

named-assigned : (t n : List ℕ) (A : List ClassedLine) (l : ClassedLine) (B : List ClassedLine) → classed_lines t ≡ A ++ l ∷ B → IsNamed n l.class → is_prefix_name n ≡ false → IsAssigned l
named-assigned t n A l B h m f = assigned-there (context_of A) n l (line-in_text t A l B h).class m f

-- so is each line of a text that assigns a name other than that of the prefix
pub assigned-by_name : (t n : List ℕ) (A : List ClassedLine) (l : ClassedLine) (B : List ClassedLine) → classed_lines t ≡ A ++ l ∷ B → assigns n l.class ≡ true → is_prefix_name n ≡ false → IsAssigned l
assigned-by_name t n A l B h k f = named-assigned t n A l B h (assigns-named n l.class k) f

-- and each that reads as an assignment of such a name
pub assigned-by_item : (t : List ℕ) (A : List ClassedLine) (l : ClassedLine) (B : List ClassedLine) (a : Assignment Cell) (v : List ℕ) → classed_lines t ≡ A ++ l ∷ B
    → items_of_line l.class l.bytes ≡ item_with_value a v ∷ [] → is_prefix_name (unit_text joined_byte a.name) ≡ false → IsAssigned l
assigned-by_item t A l B a v h i f = named-assigned t (unit_text joined_byte a.name) A l B h (read-named l.class l.bytes a v i) f

-- the assignment that an address means
pub record FoundAssignment (t : List ℕ) (a : Address) : Type 0 where
  pub spot : StandingLine
  pub found_is : found (classed_lines t) a ≡ Some spot
  pub whole : classed_lines t ≡ spot.above ++ spot.line ∷ spot.below
  pub assigned : Assignment Cell
  pub class_is : spot.line.class ≡ Assign assigned None
  pub no_prefix : is_prefix_name (unit_text joined_byte assigned.name) ≡ false

-- a line that is found and assigns a name that is not that of the prefix
pub named-found : (t n : List ℕ) (a : Address) (s : StandingLine) → found (classed_lines t) a ≡ Some s → classed_lines t ≡ s.above ++ s.line ∷ s.below → assigns n s.line.class ≡ true → is_prefix_name n ≡ false → FoundAssignment t a
named-found t n a s e w h f =
    let m = assigned-by_name t n s.above s.line s.below w h f in
    record {
      spot = s;
      found_is = e;
      whole = w;
      assigned = m.assigned;
      class_is = m.class_is;
      no_prefix = m.no_prefix;
    }

-- the assignment is found, if it is neither missing nor one of several, and its name is not that of the prefix
pub assignment-found : (t n : List ℕ) (nth : Option ℕ) → is_missing nth (spots (λ l. assigns n l.class) (classed_lines t)) ≡ false
    → is_several nth (spots (λ l. assigns n l.class) (classed_lines t)) ≡ false → is_prefix_name n ≡ false → FoundAssignment t (Variable nth n)
assignment-found t n nth h k f =
    let s = spot-picked nth (spots (λ l. assigns n l.class) (classed_lines t)) h k in
    let q = picked-is (λ l. assigns n l.class) (classed_lines t) nth s.0 s.1 in
    named-found t n (Variable nth n) s.0 s.1 q.whole q.passes f

-- so is the one whose value is set in the place of another, if that value is not absent
valued-found : (t n : List ℕ) (nth : Option ℕ) (o v : List ℕ) → absent (classed_lines t) (ChangeValue (One nth) n (SetIf o v)) ≡ None → is_prefix_name n ≡ false → FoundAssignment t (Valued nth n o)
valued-found t n nth o v h f = go (found (classed_lines t) (Valued nth n o)) refl (where_holds-none _ Absent h)
  where
    go : (s : Option StandingLine) → found (classed_lines t) (Valued nth n o) ≡ s → not (has_effect (SetIf o v) (class_found s)) ≡ false → FoundAssignment t (Valued nth n o)
    go None e k = absurd (cc)
    go (Some s) e k =
        let q = picked-is (λ l. assigns n l.class && has_value o l.class) (classed_lines t) nth s e in
        named-found t n (Valued nth n o) s e q.whole (and_parts (assigns n s.line.class) (has_value o s.line.class) q.passes).0 f

-- the assignment that a change of a value means
pub changed-found : (t n : List ℕ) (nth : Option ℕ) (c : ValueChange) → no_such (classed_lines t) (ChangeValue (One nth) n c) ≡ None → ambiguous (classed_lines t) (ChangeValue (One nth) n c) ≡ None
    → absent (classed_lines t) (ChangeValue (One nth) n c) ≡ None → is_prefix_name n ≡ false → FoundAssignment t (value_address nth n c)
changed-found t n nth (SetIf o v) h k a f = valued-found t n nth o v a f
changed-found t n nth (Set v) h k a f = assignment-found t n nth (where_holds-none _ _ h) (where_holds-none _ _ k) f
changed-found t n nth (Append v) h k a f = assignment-found t n nth (where_holds-none _ _ h) (where_holds-none _ _ k) f
changed-found t n nth (Add w) h k a f = assignment-found t n nth (where_holds-none _ _ h) (where_holds-none _ _ k) f
changed-found t n nth (Remove w) h k a f = assignment-found t n nth (where_holds-none _ _ h) (where_holds-none _ _ k) f
