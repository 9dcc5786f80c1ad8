-- What a change of values finds among the lines of a document, by all lines; and the length of the text after it: what its spans
-- take out and put in, line by line.
use Rattle.std.proofs.Common.{◌≡◌, refl, sym, ap, ◌∙◌, subst, arith, ℕ, suc, ◌+◌, ◌*◌, ◌≤◌, Bool, true, false, not, List, [], ◌∷◌, ◌++◌, length, length-append, filter, cond}
use Rattle.std.specs.Prelude.{nat_lt, if◌then◌else◌, ◌&&◌, ◌||◌, ◌==◌}
use Rattle.std.specs.List.{list_any}
use Rattle.std.proofs.lemmas.Bool.{le-ltb, ne_eqb}
use Rattle.std.proofs.Math.Bool.{or-false, or_assoc}
use Rattle.mk_lines.specs.Limits.{max_text}
use Rattle.mk_lines.specs.Cells.{Cell}
use Rattle.mk_lines.specs.Pieces.{Replacement}
use Rattle.mk_class.specs.ListTests.{is_empty}
use Rattle.mk_class.specs.Classes.{Class}
use Rattle.mk_class.specs.ClassTable.{class_of}
use Rattle.mk_class.specs.ClassedLines.{ClassedLine, classed_lines}
use Rattle.mk_class.specs.Contexts.{Context, start, context_after}
use Rattle.mk_class.specs.RecipePrefix.{is_prefix_name}
use Rattle.mk_tree.specs.Documents.{IsFaithful}
use Rattle.mk_tree.specs.LocatedLines.{LocatedLine, located_line, located_lines, located_text, size_of}
use Rattle.mk_tree.proofs.on_changes.Sizes.{size_of-text}
use Rattle.mk_tree.proofs.on_documents.LinesInText.{AreClassed, AreClassed-class, AreClassed-tail, AreClassed-lines}
use Rattle.mk_edit_language.specs.Causes.{where_holds}
use Rattle.mk_edit_language.specs.Edits.{Every, ValueChange, Set, SetIf, Append, Add, Remove, ChangeValue}
use Rattle.mk_edit_language.specs.EditSpans.{spans_in_lines, spans_of}
use Rattle.mk_edit_language.specs.Lengths.{bytes_taken, bytes_put}
use Rattle.mk_edit_language.specs.LineCauses.{too_long}
use Rattle.mk_edit_language.specs.ValueChanges.{change_spans, changed_line_spans, is_changed, append_value_span, assignment_spans, set_value_span}
use Rattle.mk_edit_language.specs.declared.refusal.Refusal.TheVariants.{TooLong}
use Rattle.mk_edit_parts.specs.LineRanges.{value_range_located}
use Rattle.mk_edit_parts.specs.LocatedParts.{assigns_located, is_unread_located}
use Rattle.mk_edit_parts.specs.ValuePieces.{line_without_pieces}
use Rattle.mk_edit.specs.ChangeValuesSurveys.{found_by, found_with}
use Rattle.mk_edit.specs.ValueChangeLines.{is_changed_located, is_open_located, put_by, space_after, spared_by, value_text_located}
use Rattle.mk_edit.specs.declared.change_values_survey.Findings.{Findings}
use Rattle.mk_edit.proofs.on_plans.CausePlans.{AreBalanced, long-by, never-long}
use Rattle.mk_edit.proofs.on_prerequisites.WordPlans.{nothing-put}
use Rattle.mk_edit.proofs.on_renaming.PatchPlans.{filter-step}
use Rattle.mk_edit.proofs.on_renaming.SizesOfTexts.{put-append, taken-append}
use Rattle.mk_edit.proofs.on_values.ValueSpans.{append_value_span-range, is_empty-length, line-nothing, line-spans, set_value_span-range}
use Rattle.mk_edit.proofs.on_value_changes.ChangedBytes.{line-range, line-text}
use Rattle.mk_edit.proofs.on_value_changes.LinesTold.{IsNamedLine, changed-assigns, changed-told, named-line}

-- ---- what is found among all lines

-- whether one of some lines is changed, and its value is open to the change
abbrev pub is_opened : (name : List ℕ) → ValueChange → LocatedLine → Bool
is_opened n c l = is_changed_located n c l && is_open_located c l

-- how many bytes are spared in some lines
abbrev pub spared_in : (name : List ℕ) → ValueChange → List LocatedLine → ℕ
spared_in n c [] = 0
spared_in n c (l ∷ ls) = (if is_changed_located n c l then spared_by c l else 0) + spared_in n c ls

module _ (n : List ℕ) (c : ValueChange) where
  pub found-unread : (f : Findings) (ls : List LocatedLine) → (found_with n c f ls).has_unread_prefix ≡ (f.has_unread_prefix || list_any is_unread_located ls)
  found-unread f [] = sym (or-false f.has_unread_prefix)
  found-unread f (l ∷ ls) = found-unread (found_by n c l f) ls ∙ or_assoc f.has_unread_prefix (is_unread_located l) (list_any is_unread_located ls)

  pub found-there : (f : Findings) (ls : List LocatedLine) → (found_with n c f ls).is_there ≡ (f.is_there || list_any (assigns_located n) ls)
  found-there f [] = sym (or-false f.is_there)
  found-there f (l ∷ ls) = found-there (found_by n c l f) ls ∙ or_assoc f.is_there (assigns_located n l) (list_any (assigns_located n) ls)

  pub found-open : (f : Findings) (ls : List LocatedLine) → (found_with n c f ls).is_open ≡ (f.is_open || list_any (is_opened n c) ls)
  found-open f [] = sym (or-false f.is_open)
  found-open f (l ∷ ls) = found-open (found_by n c l f) ls ∙ go (is_changed_located n c l) (is_open_located c l) (list_any (is_opened n c) ls)
    where
      go : (k o r : Bool) → ((if k then f.is_open || o else f.is_open) || r) ≡ (f.is_open || ((k && o) || r))
      go true o r = or_assoc f.is_open o r
      go false o r = refl

  pub found-lines : (f : Findings) (ls : List LocatedLine) → (found_with n c f ls).lines ≡ f.lines + length (filter (is_changed_located n c) ls)
  found-lines f [] = omega arith
  found-lines f (l ∷ ls) = found-lines (found_by n c l f) ls ∙ go (is_changed_located n c l)
    where
      go : (k : Bool) → (if k then f.lines + 1 else f.lines) + length (filter (is_changed_located n c) ls) ≡ f.lines + length (if k then l ∷ filter (is_changed_located n c) ls else filter (is_changed_located n c) ls)
      go true = omega arith
      go false = omega arith

  pub found-spared : (f : Findings) (ls : List LocatedLine) → (found_with n c f ls).spared ≡ f.spared + spared_in n c ls
  found-spared f [] = omega arith
  found-spared f (l ∷ ls) = found-spared (found_by n c l f) ls ∙ go (is_changed_located n c l)
    where
      go : (k : Bool) → (if k then f.spared + spared_by c l else f.spared) + spared_in n c ls ≡ f.spared + ((if k then spared_by c l else 0) + spared_in n c ls)
      go true = omega arith
      go false = omega arith

-- some lines pass a test where their number is not 0
pub none-pass : {X : Type 0} (p : X → Bool) (xs : List X) → (length (filter p xs) == 0) ≡ not (list_any p xs)
none-pass p [] = refl
none-pass p (x ∷ xs) = go (p x) (none-pass p xs)
  where
    go : (b : Bool) → (length (filter p xs) == 0) ≡ not (list_any p xs) → (length (if b then x ∷ filter p xs else filter p xs) == 0) ≡ not (b || list_any p xs)
    go true h = ne_eqb (suc (length (filter p xs))) 0 (λ e. absurd (omega (arith, e)))
    go false h = h

-- ---- the bytes of one line

-- a change that puts a text in
abbrev pub PutsIn : ValueChange → Type 0
PutsIn (Set v) = Unit {0}
PutsIn (SetIf o v) = Unit {0}
PutsIn (Append v) = Unit {0}
PutsIn (Add w) = Unit {0}
PutsIn (Remove w) = ⊥

abbrev space_if : Bool → List ℕ
space_if b = if b then [] else 32 ∷ []

space-spared : (text : List ℕ) → length (space_after text) + (if length text == 0 then 1 else 0) ≡ 1
space-spared text = ap (λ b. length (space_after text) + (if b then 1 else 0)) (sym (is_empty-length text)) ∙ go (is_empty text)
  where
    go : (b : Bool) → length (space_if b) + (if b then 1 else 0) ≡ 1
    go true = refl
    go false = refl

append-balanced : (x : Context) (k : ClassedLine) (v : List ℕ) (at : ℕ) → (N : IsNamedLine x k) → AreBalanced (if length (value_text_located (located_line k)) == 0 then 1 else 0) (length v + 1) (append_value_span v at N.assigned ∷ [])
append-balanced x k v at N =
    let l = located_line k in
    let r = value_range_located false l in
    let text = value_text_located l in
    let s : append_value_span v at N.assigned ≡ record { start = at + r.end; end = at + r.end; new = space_after text ++ v } =
    append_value_span-range k.bytes N.assigned v text at r (line-range x l N.assigned false r N.here N.located refl) (line-text x l N.assigned text N.here N.located refl) in
    omega (
      arith,
      ap (λ (z : Replacement). bytes_put (z ∷ [])) s,
      ap (λ (z : Replacement). bytes_taken (z ∷ [])) s,
      length-append (space_after text) v,
      space-spared text,
    )

set-balanced : (x : Context) (k : ClassedLine) (v : List ℕ) (at : ℕ) → (N : IsNamedLine x k) → AreBalanced (spared_by (Set v) (located_line k)) (length v) (set_value_span v at N.assigned ∷ [])
set-balanced x k v at N =
    let l = located_line k in
    let r = value_range_located (length v == 0) l in
    let R = line-range x l N.assigned (is_empty v) r N.here N.located (ap (λ b. value_range_located b l) (sym (is_empty-length v))) in
    let s = set_value_span-range k.bytes N.assigned v at r R in
    omega (arith, ap (λ (z : Replacement). bytes_put (z ∷ [])) s, ap (λ (z : Replacement). bytes_taken (z ∷ [])) s, R.rises)

pub change-balanced : (c : ValueChange) (x : Context) (k : ClassedLine) (at : ℕ) → PutsIn c → (N : IsNamedLine x k) → AreBalanced (spared_by c (located_line k)) (put_by c) (change_spans c at N.assigned)
change-balanced (Set v) x k at p N = set-balanced x k v at N
change-balanced (SetIf o v) x k at p N = set-balanced x k v at N
change-balanced (Append v) x k at p N = append-balanced x k v at N
change-balanced (Add w) x k at p N = append-balanced x k w at N
change-balanced (Remove w) x k at p N = absurd p

-- ---- the lines of a text

module _ (n : List ℕ) (c : ValueChange) (f : is_prefix_name n ≡ false) where
  abbrev changes : ℕ → Class Cell → List Replacement
  changes = changed_line_spans n c

  line-balanced : PutsIn c → (x : Context) (k : ClassedLine) (at : ℕ) → class_of x k.bytes ≡ k.class
      → AreBalanced (if is_changed_located n c (located_line k) then spared_by c (located_line k) else 0) ((if is_changed_located n c (located_line k) then 1 else 0) * put_by c) (changes at k.class)
  line-balanced p x k at h =
      subst (λ b. AreBalanced (if b then spared_by c (located_line k) else 0) ((if b then 1 else 0) * put_by c) (changes at k.class)) (sym (changed-told n c f x k h)) (go (is_changed n c k) refl)
    where
      go : (b : Bool) → is_changed n c k ≡ b → AreBalanced (if b then spared_by c (located_line k) else 0) ((if b then 1 else 0) * put_by c) (cond b (assignment_spans (change_spans c) at k.class) [])
      go true e =
          let N = named-line x n k h (changed-assigns n c k e) f in
          let s = ap (λ (q : Class Cell). assignment_spans (change_spans c) at q) N.class_is in
          omega (arith, ap bytes_put s, ap bytes_taken s, change-balanced c x k at p N)
      go false e = omega arith

  lines-balanced : PutsIn c → (x : Context) (ks : List ClassedLine) (at : ℕ) → AreClassed x ks
      → AreBalanced (spared_in n c (located_lines ks)) (length (filter (is_changed_located n c) (located_lines ks)) * put_by c) (spans_in_lines changes at ks)
  lines-balanced p x [] at h = omega arith
  lines-balanced p x (k ∷ ks) at h =
      let rs = spans_in_lines changes (at + length k.bytes) ks in
      omega (
        arith,
        put-append (changes at k.class) rs,
        taken-append (changes at k.class) rs,
        line-balanced p x k at (AreClassed-class x k ks h),
        lines-balanced p (context_after x k.class) ks (at + length k.bytes) (AreClassed-tail x k ks h),
        ap (λ z. z * put_by c) (filter-step (is_changed_located n c) (located_line k) (located_lines ks)),
      )

-- a word taken out puts nothing in
module _ (n w : List ℕ) (f : is_prefix_name n ≡ false) where
  lines-removed : (x : Context) (ks : List ClassedLine) (at : ℕ) → AreClassed x ks → bytes_put (spans_in_lines (changed_line_spans n (Remove w)) at ks) ≡ 0
  lines-removed x [] at h = refl
  lines-removed x (k ∷ ks) at h =
      let rs = spans_in_lines (changed_line_spans n (Remove w)) (at + length k.bytes) ks in
      omega (
        arith,
        put-append (changed_line_spans n (Remove w) at k.class) rs,
        go (is_changed n (Remove w) k) refl,
        lines-removed (context_after x k.class) ks (at + length k.bytes) (AreClassed-tail x k ks h),
      )
    where
      go : (b : Bool) → is_changed n (Remove w) k ≡ b → bytes_put (cond b (assignment_spans (change_spans (Remove w)) at k.class) []) ≡ 0
      go true e =
          let N = named-line x n k (AreClassed-class x k ks h) (changed-assigns n (Remove w) k e) f in
          ap (λ (q : Class Cell). bytes_put (assignment_spans (change_spans (Remove w)) at q)) N.class_is
          ∙ (ap bytes_put (line-spans at w N.assigned []) ∙ nothing-put at (line_without_pieces w N.assigned []) (line-nothing w N.assigned []))
      go false e = refl

-- ---- whether the text is too long

-- by the bytes that are put into each line that is changed
abbrev pub is_long : (name : List ℕ) → ValueChange → List LocatedLine → Bool
is_long n c ls = nat_lt (max_text + spared_in n c ls) (size_of ls + length (filter (is_changed_located n c) ls) * put_by c)

long-balanced : (ls : List LocatedLine) (n : List ℕ) (c : ValueChange) → PutsIn c → IsFaithful ls → is_prefix_name n ≡ false
    → too_long (located_text ls) (spans_of (located_text ls) (classed_lines (located_text ls)) (ChangeValue Every n c)) ≡ where_holds (is_long n c ls) TooLong
long-balanced ls n c p h f =
    let t = located_text ls in
    let ds = classed_lines t in
    let rs = spans_of t ds (ChangeValue Every n c) in
    let balance = lines-balanced n c f p start ds 0 (AreClassed-lines t ds refl) in
    let spared = spared_in n c ls in
    let put = length (filter (is_changed_located n c) ls) * put_by c in
    let own : AreBalanced spared put rs = subst (λ (z : List LocatedLine). AreBalanced (spared_in n c z) (length (filter (is_changed_located n c) z) * put_by c) rs) (sym h) balance in
    long-by t (ChangeValue Every n c) spared put own ∙ ap (λ m. where_holds (nat_lt (max_text + spared) (m + put)) TooLong) (sym (size_of-text ls))

pub change-long : (ls : List LocatedLine) (n : List ℕ) (c : ValueChange) → IsFaithful ls → size_of ls ≤ max_text → is_prefix_name n ≡ false
    → too_long (located_text ls) (spans_of (located_text ls) (classed_lines (located_text ls)) (ChangeValue Every n c)) ≡ where_holds (is_long n c ls) TooLong
change-long ls n (Set v) h few f = long-balanced ls n (Set v) tt h f
change-long ls n (SetIf o v) h few f = long-balanced ls n (SetIf o v) tt h f
change-long ls n (Append v) h few f = long-balanced ls n (Append v) tt h f
change-long ls n (Add w) h few f = long-balanced ls n (Add w) tt h f
change-long ls n (Remove w) h few f =
    let t = located_text ls in
    let ds = classed_lines t in
    let short : is_long n (Remove w) ls ≡ false = le-ltb _ _ (omega (arith, few)) in
    never-long t (ChangeValue Every n (Remove w)) (lines-removed n w f start ds 0 (AreClassed-lines t ds refl)) (omega (arith, few, size_of-text ls)) ∙ ap (λ b. where_holds b TooLong) (sym short)
