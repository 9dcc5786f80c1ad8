-- A change of the value of one assignment: its causes by what the code finds in the line, and its plan.
use Rattle.std.proofs.Common.{◌≡◌, refl, sym, ap, ◌∙◌, subst, arith, ℕ, ◌+◌, ◌*◌, ◌<◌, ◌≤◌, Bool, true, false, not, if◌then◌else◌, List, [], ◌∷◌, length, Option, Some, None, option_map}
use Rattle.std.specs.Prelude.{◌&&◌, ◌==◌, nat_lt, slice_get}
use Rattle.std.proofs.lemmas.Bool.{and_parts, le-ltb}
use Rattle.std.proofs.lemmas.List.{append-nil}
use Rattle.mk_lines.specs.Limits.{max_text}
use Rattle.mk_lines.specs.Cells.{Cell, joined_byte}
use Rattle.mk_lines.specs.Pieces.{replaced}
use Rattle.mk_class.specs.Classes.{Class}
use Rattle.mk_class.specs.ClassTable.{class_of}
use Rattle.mk_class.specs.LocatedClasses.{located_class}
use Rattle.mk_class.specs.ClassedLines.{ClassedLine, classed_lines}
use Rattle.mk_tree.specs.Documents.{IsFaithful, text_of}
use Rattle.mk_tree.specs.LocatedLines.{LocatedLine, located_line, located_text, size_of}
use Rattle.mk_tree.proofs.on_changes.Sizes.{size_of-text}
use Rattle.mk_edit_language.specs.AddressCauses.{ambiguous, no_such}
use Rattle.mk_edit_language.specs.Addresses.{Valued, assigns, found, has_value, value_address}
use Rattle.mk_edit_language.specs.Causes.{where_holds}
use Rattle.mk_edit_language.specs.Edits.{One, ValueChange, Set, SetIf, Append, Add, Remove, Edit, ChangeValue}
use Rattle.mk_edit_language.specs.EditSpans.{spans_of, where_found}
use Rattle.mk_edit_language.specs.KeptLines.{respanned_bytes}
use Rattle.mk_edit_language.specs.Lengths.{bytes_put}
use Rattle.mk_edit_language.specs.LineCauses.{is_open_to, open_value, too_long}
use Rattle.mk_edit_language.specs.Refusals.{causes, first_cause}
use Rattle.mk_edit_language.specs.RuleCauses.{class_found}
use Rattle.mk_edit_language.specs.Stretches.{this_line}
use Rattle.mk_edit_language.specs.ValueChanges.{assignment_spans, change_spans, has_effect, value_spans}
use Rattle.mk_edit_language.specs.declared.refusal.Refusal.{Refusal}
use Rattle.mk_edit_language.specs.declared.refusal.Refusal.TheVariants.{Absent, Already, OpenValue, TooLong}
use Rattle.mk_edit_language.proofs.on_changes.SpansShifted.{change-by_itself}
use Rattle.mk_edit_language.proofs.on_edits.Accepted.{accepted, where_holds-none}
use Rattle.mk_edit_language.proofs.on_lines.SpotLemmas.{picked-is}
use Rattle.mk_edit_language.proofs.on_values.FoundAssignments.{FoundAssignment, named-found}
use Rattle.mk_edit_language.proofs.on_values.SetValueLemmas.{not_prefix}
use Rattle.mk_edit_parts.specs.Found.{IsAddressed, IsFoundAt, IsPlaceOf}
use Rattle.mk_edit_parts.specs.ValuePieces.{line_without_pieces}
use Rattle.mk_edit_parts.specs.declared.seek.Found.{Found}
use Rattle.mk_edit_parts.proofs.CauseLemmas.{unrefused}
use Rattle.mk_edit.specs.ChangeValuesSurveys.{first_of_findings, found_in, idle}
use Rattle.mk_edit.specs.ValueChangeLines.{IsChangeOfOne, IsOwnLine, bytes_changed, has_effect_located, is_open_located, put_by, spared_by}
use Rattle.mk_edit.specs.declared.change_values_survey.Findings.{Findings}
use Rattle.mk_edit.proofs.on_plans.CausePlans.{AreBalanced, addressed-own, long-by, never-long}
use Rattle.mk_edit.proofs.on_plans.LinePlans.{IsReplaced, line-replaced}
use Rattle.mk_edit.proofs.on_prerequisites.WordPlans.{nothing-put}
use Rattle.mk_edit.proofs.on_value_changes.CausesOfChange.{few-own, idle_cause}
use Rattle.mk_edit.proofs.on_value_changes.LinesTold.{IsNamedLine, effect-told, open-told}
use Rattle.mk_edit.proofs.on_value_changes.SizesOfChanges.{PutsIn, change-balanced}
use Rattle.mk_edit.proofs.on_values.ValuePlaces.{IsValuePlace, IsVariablePlace, value-place, variable-found, variable-place}
use Rattle.mk_edit.proofs.on_values.ValueSpans.{line-nothing, line-spans}

-- ---- what is found in one line

abbrev one_if : Bool → ℕ
one_if b = if b then 1 else 0

none-if : (b : Bool) → (one_if b == 0) ≡ not b
none-if true = refl
none-if false = refl

-- where the change does something to the line, its bytes are put in once; where it does nothing, another cause holds first
same-long : (c : ValueChange) (l : LocatedLine) (k : Bool) (o : Option Refusal) (a s : ℕ) → has_effect_located c l ≡ k
    → first_cause (idle c (one_if k) ∷ o ∷ where_holds (nat_lt a (s + one_if k * put_by c)) TooLong ∷ []) ≡ first_cause (idle c (one_if k) ∷ o ∷ where_holds (nat_lt a (s + put_by c)) TooLong ∷ [])
same-long c l true o a s h =
    let p : 1 * put_by c ≡ put_by c = omega arith in
    ap (λ n. first_cause (idle c 1 ∷ o ∷ where_holds (nat_lt a (s + n)) TooLong ∷ [])) p
same-long (Set v) l false o a s h = absurd (cc)
same-long (SetIf u v) l false o a s h = refl
same-long (Append v) l false o a s h = absurd (cc)
same-long (Add w) l false o a s h = refl
same-long (Remove w) l false o a s h = refl

-- the line of an assignment that an edit means
module _ (ls : List LocatedLine) (nth : Option ℕ) (n : List ℕ) (c : ValueChange) (f : Found) (l : LocatedLine) (P : IsValuePlace ls (value_address nth n c) f l) where
  abbrev text : List ℕ
  text = located_text ls

  abbrev lines : List ClassedLine
  lines = classed_lines text

  abbrev edit : Edit
  edit = ChangeValue (One nth) n c

  abbrev line : ClassedLine
  line = P.spot.line

  -- where it begins
  abbrev base : ℕ
  base = length (text_of P.spot.above)

  abbrev meant : Option (Class Cell)
  meant = class_found (found lines (value_address nth n c))

  abbrev named : IsNamedLine f.context line
  named = record { assigned = P.assigned; here = P.here; class_is = P.class_is; located = ap (located_class joined_byte) P.class_is }

  -- ---- its causes

  class-is : meant ≡ Some line.class
  class-is = ap class_found P.found_is

  effect-is : has_effect c meant ≡ has_effect_located c l
  effect-is = ap (has_effect c) class-is ∙ (sym (effect-told c f.context line named) ∙ ap (has_effect_located c) (sym P.line_is))

  open-is : is_open_to c meant ≡ is_open_located c l
  open-is = ap (is_open_to c) class-is ∙ (sym (open-told c f.context line named) ∙ ap (is_open_located c) (sym P.line_is))

  idle-is : idle_cause lines (One nth) n c ≡ idle c (one_if (has_effect_located c l))
  idle-is = go c effect-is
    where
      meant_by : ValueChange → Option (Class Cell)
      meant_by d = class_found (found lines (value_address nth n d))

      go : (d : ValueChange) → has_effect d (meant_by d) ≡ has_effect_located d l → idle_cause lines (One nth) n d ≡ idle d (one_if (has_effect_located d l))
      go (Set v) e = refl
      go (SetIf o v) e = ap (λ b. where_holds (not b) Absent) e ∙ ap (λ b. where_holds b Absent) (sym (none-if (has_effect_located (SetIf o v) l)))
      go (Append v) e = refl
      go (Add w) e = ap (λ b. where_holds (not b) Already) e ∙ ap (λ b. where_holds b Already) (sym (none-if (has_effect_located (Add w) l)))
      go (Remove w) e = ap (λ b. where_holds (not b) Absent) e ∙ ap (λ b. where_holds b Absent) (sym (none-if (has_effect_located (Remove w) l)))

  spans-are : spans_of text lines edit ≡ change_spans c base P.assigned
  spans-are = ap (where_found (value_spans (change_spans c))) P.found_is ∙ ap (assignment_spans (change_spans c) base) P.class_is

  long-is : size_of ls ≤ max_text → too_long text (spans_of text lines edit) ≡ where_holds (nat_lt (max_text + spared_by c l) (size_of ls + put_by c)) TooLong
  long-is few = go c spans-are
    where
      put-in : (d : ValueChange) → PutsIn d → spans_of text lines (ChangeValue (One nth) n d) ≡ change_spans d base P.assigned
          → too_long text (spans_of text lines (ChangeValue (One nth) n d)) ≡ where_holds (nat_lt (max_text + spared_by d l) (size_of ls + put_by d)) TooLong
      put-in d p e =
          let rs = spans_of text lines (ChangeValue (One nth) n d) in
          let own : AreBalanced (spared_by d (located_line line)) (put_by d) rs = subst (AreBalanced (spared_by d (located_line line)) (put_by d)) (sym e) (change-balanced d f.context line base p named) in
          long-by text (ChangeValue (One nth) n d) (spared_by d l) (put_by d) (subst (λ (z : LocatedLine). AreBalanced (spared_by d z) (put_by d) rs) (sym P.line_is) own)
          ∙ ap (λ m. where_holds (nat_lt (max_text + spared_by d l) (m + put_by d)) TooLong) (sym (size_of-text ls))

      go : (d : ValueChange) → spans_of text lines (ChangeValue (One nth) n d) ≡ change_spans d base P.assigned
          → too_long text (spans_of text lines (ChangeValue (One nth) n d)) ≡ where_holds (nat_lt (max_text + spared_by d l) (size_of ls + put_by d)) TooLong
      go (Set v) e = put-in (Set v) tt e
      go (SetIf o v) e = put-in (SetIf o v) tt e
      go (Append v) e = put-in (Append v) tt e
      go (Add w) e = put-in (Add w) tt e
      go (Remove w) e =
          let none = ap bytes_put (e ∙ line-spans base w P.assigned []) ∙ nothing-put base (line_without_pieces w P.assigned []) (line-nothing w P.assigned []) in
          let short : nat_lt (max_text + 0) (size_of ls + 0) ≡ false = le-ltb _ _ (omega (arith, few)) in
          never-long text (ChangeValue (One nth) n (Remove w)) none (omega (arith, few, size_of-text ls)) ∙ ap (λ b. where_holds b TooLong) (sym short)

  one-told : IsAddressed edit ls f → size_of ls ≤ max_text → first_of_findings c (found_in c l) (size_of ls) ≡ first_cause (causes text lines edit)
  one-told A few =
      let i = idle c (one_if (has_effect_located c l)) in
      let o = where_holds (is_open_located c l) OpenValue in
      let long = too_long text (spans_of text lines edit) in
      let g = where_holds (nat_lt (max_text + spared_by c l) (size_of ls + put_by c)) TooLong in
      let own : first_cause (causes text lines edit) ≡ first_cause (i ∷ o ∷ g ∷ []) =
      addressed-own edit ls f (first_cause (i ∷ o ∷ g ∷ [])) A refl
      (few-own lines (One nth) n c long
      ∙ (ap (λ z. first_cause (z ∷ open_value lines edit ∷ long ∷ [])) idle-is
      ∙ (ap (λ b. first_cause (i ∷ where_holds b OpenValue ∷ long ∷ [])) open-is ∙ ap (λ z. first_cause (i ∷ o ∷ z ∷ [])) (long-is few)))) in
      same-long c l (has_effect_located c l) o (max_text + spared_by c l) (size_of ls) refl ∙ sym own

  -- ---- the line after the change

  one-own : first_cause (causes text lines edit) ≡ None → IsOwnLine c f.context l
  one-own none =
      let W = accepted text edit _ (unrefused text edit none) in
      let shut : is_open_to c meant ≡ false = where_holds-none _ OpenValue W.value_closed in
      record {
        assigned = P.assigned;
        here = ap (λ (z : LocatedLine). class_of f.context z.bytes) P.line_is ∙ P.here;
        class_is = ap (λ (z : LocatedLine). z.class) P.line_is ∙ ap (located_class joined_byte) P.class_is;
        not_open = ap (λ (q : Class Cell). is_open_to c (Some q)) (sym P.class_is) ∙ (ap (is_open_to c) (sym class-is) ∙ shut);
      }

  one-changed : IsFaithful ls → (m : List ℕ) → first_cause (causes text lines edit) ≡ None → m ≡ bytes_changed c f.context l → IsReplaced edit ls f.at m
  one-changed h m none k =
      let rs = spans_of text lines edit in
      let spans = change_spans c in
      let here : replaced 0 line.bytes (spans 0 P.assigned) ≡ bytes_changed c f.context l =
      ap (λ (q : Class Cell). replaced 0 line.bytes (assignment_spans spans 0 q)) (sym P.here) ∙ ap (λ (z : LocatedLine). bytes_changed c f.context z) (sym P.line_is) in
      let bytes : respanned_bytes (this_line P.spot) rs ≡ m =
      ap (respanned_bytes (this_line P.spot)) spans-are
      ∙ (ap (λ z. replaced base z (spans base P.assigned)) (append-nil line.bytes) ∙ (change-by_itself c base P.assigned line.bytes ∙ (here ∙ sym k))) in
      line-replaced edit ls rs P.spot f.at m h (unrefused text edit none) (ap (option_map this_line) P.found_is) P.place_is (ap (λ z. z ∷ []) bytes)

-- the assignment that the edit means
meant-assignment : (ls : List LocatedLine) (nth : Option ℕ) (n : List ℕ) (c : ValueChange) (f : Found) → IsAddressed (ChangeValue (One nth) n c) ls f → FoundAssignment (located_text ls) (value_address nth n c)
meant-assignment ls nth n c f A = go c A.is_there A.is_one A.meant
  where
    t : List ℕ
    t = located_text ls

    lines : List ClassedLine
    lines = classed_lines t

    go : (d : ValueChange) → no_such lines (ChangeValue (One nth) n d) ≡ None → ambiguous lines (ChangeValue (One nth) n d) ≡ None → IsFoundAt lines (value_address nth n d) f → FoundAssignment t (value_address nth n d)
    go (SetIf o v) h k F =
        let q = picked-is (λ l. assigns n l.class && has_value o l.class) lines nth F.spot F.found_is in
        named-found t n (Valued nth n o) F.spot F.found_is q.whole (and_parts (assigns n F.spot.line.class) (has_value o F.spot.line.class) q.passes).0 (not_prefix n A.not_reserved)
    go (Set v) h k F = variable-found t n nth h k (not_prefix n A.not_reserved)
    go (Append v) h k F = variable-found t n nth h k (not_prefix n A.not_reserved)
    go (Add w) h k F = variable-found t n nth h k (not_prefix n A.not_reserved)
    go (Remove w) h k F = variable-found t n nth h k (not_prefix n A.not_reserved)

-- ---- the whole

-- What the code asks of a document if the value of one assignment is changed, and what follows from the answers.
pub record IsChangeOf (c : ValueChange) (e : Edit) (ls : List LocatedLine) (f : Found) : Type 0 where
  pub within : f.at < length ls
  pub place : IsPlaceOf ls f
  pub told : (l : LocatedLine) (x : Findings) (size : ℕ) → Some l ≡ slice_get ls f.at → x ≡ found_in c l → size ≡ size_of ls → size_of ls ≤ max_text
      → first_of_findings c x size ≡ first_cause (causes (located_text ls) (classed_lines (located_text ls)) e)
  pub own : (l : LocatedLine) → Some l ≡ slice_get ls f.at → first_cause (causes (located_text ls) (classed_lines (located_text ls)) e) ≡ None → IsOwnLine c f.context l
  pub changed : (l : LocatedLine) (m : List ℕ) → Some l ≡ slice_get ls f.at → first_cause (causes (located_text ls) (classed_lines (located_text ls)) e) ≡ None → m ≡ bytes_changed c f.context l → IsReplaced e ls f.at m

change_one : (nth : Option ℕ) (n : List ℕ) (c : ValueChange) (ls : List LocatedLine) (f : Found) → IsFaithful ls → IsAddressed (ChangeValue (One nth) n c) ls f → IsChangeOf c (ChangeValue (One nth) n c) ls f
change_one nth n c ls f h A = record {
  within = V.within;
  place = V.place;
  told = λ l x size g i k few.
      ap (λ (z : Findings). first_of_findings c z size) i ∙ (ap (first_of_findings c (found_in c l)) k ∙ one-told ls nth n c f l (there l g) A few);
  own = λ l g none. one-own ls nth n c f l (there l g) none;
  changed = λ l m g none k. one-changed ls nth n c f l (there l g) h m none k;
}
  where
    V : IsVariablePlace ls f
    V = variable-place (ChangeValue (One nth) n c) ls f (value_address nth n c) h refl A

    there : (l : LocatedLine) → Some l ≡ slice_get ls f.at → IsValuePlace ls (value_address nth n c) f l
    there l g = value-place ls (value_address nth n c) f l h (meant-assignment ls nth n c f A) A.meant g

pub change_value-of : (c : ValueChange) (e : Edit) (ls : List LocatedLine) (f : Found) → IsFaithful ls → IsChangeOfOne c e → IsAddressed e ls f → IsChangeOf c e ls f
change_value-of c e ls f h K A = subst (λ z. IsChangeOf c z ls f) (sym K.is) (change_one K.nth K.name c ls f h (subst (λ z. IsAddressed z ls f) K.is A))
