-- The causes of refusal of a change of values, by what the code finds among the lines of a document.
use Rattle.std.proofs.Common.{◌≡◌, refl, sym, ap, ◌∙◌, ℕ, ◌+◌, ◌*◌, ◌≤◌, arith, Bool, false, not, List, [], ◌∷◌, ◌++◌, length, filter, Option, Some, None}
use Rattle.std.specs.Prelude.{nat_lt, ◌&&◌}
use Rattle.std.specs.List.{list_any}
use Rattle.mk_lines.specs.Limits.{max_text}
use Rattle.mk_class.specs.ClassedLines.{ClassedLine, classed_lines}
use Rattle.mk_class.specs.RecipePrefix.{is_prefix_name}
use Rattle.mk_tree.specs.Documents.{IsFaithful}
use Rattle.mk_tree.specs.LocatedLines.{LocatedLine, located_text, size_of}
use Rattle.mk_edit_language.specs.AddressCauses.{ambiguous, is_unread_prefix, no_such, misplaced, unread_prefix}
use Rattle.mk_edit_language.specs.Addresses.{assigns}
use Rattle.mk_edit_language.specs.ArgumentCauses.{bad_argument, reserved}
use Rattle.mk_edit_language.specs.Causes.{where_holds}
use Rattle.mk_edit_language.specs.Edits.{Which, Every, ValueChange, Set, SetIf, Append, Add, Remove, Edit, ChangeValue}
use Rattle.mk_edit_language.specs.EditSpans.{spans_of}
use Rattle.mk_edit_language.specs.LineCauses.{is_open_to, leaning, open_define, open_line, open_value, too_long}
use Rattle.mk_edit_language.specs.Refusals.{causes, first_cause}
use Rattle.mk_edit_language.specs.RuleCauses.{absent, already, shared_rule, straddles, taken}
use Rattle.mk_edit_language.specs.ValueChanges.{is_changed}
use Rattle.mk_edit_language.specs.declared.refusal.Refusal.{Refusal}
use Rattle.mk_edit_language.specs.declared.refusal.Refusal.TheVariants.{Absent, Already, TooLong}
use Rattle.mk_edit_language.proofs.on_values.SetValueLemmas.{not_prefix}
use Rattle.mk_edit_parts.specs.LocatedParts.{assigns_located}
use Rattle.mk_edit_parts.proofs.CauseLemmas.{passed}
use Rattle.mk_edit_parts.proofs.on_finding.PartLemmas.{assigns-located}
use Rattle.mk_edit_parts.proofs.on_finding.SeekLemmas.{any-told, unread-told}
use Rattle.mk_edit.specs.ChangeValuesSurveys.{findings_on, first_of_findings, first_said, idle, nothing_found}
use Rattle.mk_edit.specs.ValueChangeLines.{is_changed_located, put_by}
use Rattle.mk_edit.specs.declared.change_values_survey.Findings.{Findings}
use Rattle.mk_edit.proofs.on_plans.CausePlans.{dropped, last-none}
use Rattle.mk_edit.proofs.on_renaming.CausesOfRenameTarget.{after-cause}
use Rattle.mk_edit.proofs.on_value_changes.LinesTold.{changed-told, opened-told}
use Rattle.mk_edit.proofs.on_value_changes.SizesOfChanges.{change-long, found-lines, found-open, found-spared, found-there, found-unread, is_long, is_opened, none-pass, spared_in}

-- ---- the order of the causes

-- the cause of a change that does nothing to any value
abbrev pub idle_cause : List ClassedLine → Which → (name : List ℕ) → ValueChange → Option Refusal
idle_cause ls k n (Set v) = None
idle_cause ls k n (SetIf o v) = absent ls (ChangeValue k n (SetIf o v))
idle_cause ls k n (Append v) = None
idle_cause ls k n (Add w) = already ls (ChangeValue k n (Add w))
idle_cause ls k n (Remove w) = absent ls (ChangeValue k n (Remove w))

-- the causes from Absent on; `long` is the last of them
abbrev from_absent : List ClassedLine → Edit → (long : Option Refusal) → List (Option Refusal)
from_absent ls e g =
    absent ls e ∷ already ls e ∷ taken ls e ∷ shared_rule ls e ∷ straddles ls e ∷ open_value ls e ∷ open_line ls e ∷ open_define ls e ∷ leaning ls e ∷ g ∷ []

-- most of them do not hold of a change of values
pub few-own : (ls : List ClassedLine) (k : Which) (n : List ℕ) (c : ValueChange) (g : Option Refusal) → first_cause (from_absent ls (ChangeValue k n c) g) ≡ first_cause (idle_cause ls k n c ∷ open_value ls (ChangeValue k n c) ∷ g ∷ [])
few-own ls k n c g = go c
  where
    last : (e : Edit) → List (Option Refusal)
    last e = open_line ls e ∷ open_define ls e ∷ leaning ls e ∷ g ∷ []

    go : (c : ValueChange) → first_cause (from_absent ls (ChangeValue k n c) g) ≡ first_cause (idle_cause ls k n c ∷ open_value ls (ChangeValue k n c) ∷ g ∷ [])
    go (Set v) = let e = ChangeValue k n (Set v) in after-cause (open_value ls e) (last e) (g ∷ []) refl
    go (SetIf o v) =
        let e = ChangeValue k n (SetIf o v) in
        after-cause (absent ls e) (already ls e ∷ taken ls e ∷ shared_rule ls e ∷ straddles ls e ∷ open_value ls e ∷ last e) (open_value ls e ∷ g ∷ []) (after-cause (open_value ls e) (last e) (g ∷ []) refl)
    go (Append v) = let e = ChangeValue k n (Append v) in after-cause (open_value ls e) (last e) (g ∷ []) refl
    go (Add w) =
        let e = ChangeValue k n (Add w) in
        after-cause (already ls e) (taken ls e ∷ shared_rule ls e ∷ straddles ls e ∷ open_value ls e ∷ last e) (open_value ls e ∷ g ∷ []) (after-cause (open_value ls e) (last e) (g ∷ []) refl)
    go (Remove w) =
        let e = ChangeValue k n (Remove w) in
        after-cause (absent ls e) (already ls e ∷ taken ls e ∷ shared_rule ls e ∷ straddles ls e ∷ open_value ls e ∷ last e) (open_value ls e ∷ g ∷ []) (after-cause (open_value ls e) (last e) (g ∷ []) refl)

-- if no field is bad, the first cause is one of five
causes-are : (t : List ℕ) (ls : List ClassedLine) (n : List ℕ) (c : ValueChange) (i : Option Refusal) (g : Bool) → bad_argument (ChangeValue Every n c) ≡ None → reserved (ChangeValue Every n c) ≡ None
    → idle_cause ls Every n c ≡ i → too_long t (spans_of t ls (ChangeValue Every n c)) ≡ where_holds g TooLong
    → first_cause (causes t ls (ChangeValue Every n c))
    ≡ first_said (list_any (λ l. is_unread_prefix l.class) ls) (list_any (λ l. assigns n l.class) ls) i (list_any (λ l. is_changed n c l && is_open_to c (Some l.class)) ls) g
causes-are t ls n c i g b r j k =
    let e = ChangeValue Every n c in
    let long = too_long t (spans_of t ls e) in
    let front = absent ls e ∷ already ls e ∷ taken ls e ∷ shared_rule ls e ∷ straddles ls e ∷ open_value ls e ∷ open_line ls e ∷ open_define ls e ∷ leaning ls e ∷ [] in
    let tail = front ++ None ∷ long ∷ None ∷ [] in
    let short = idle_cause ls Every n c ∷ open_value ls e ∷ long ∷ [] in
    let whole : Option Refusal → Option Refusal → Option Refusal = λ y z. first_cause (unread_prefix ls ∷ no_such ls e ∷ y ∷ open_value ls e ∷ z ∷ []) in
    passed (bad_argument e) _ (whole i (where_holds g TooLong)) b
    (passed (reserved e) _ (whole i (where_holds g TooLong)) r
    (after-cause (unread_prefix ls) (no_such ls e ∷ ambiguous ls e ∷ misplaced ls e ∷ tail) (no_such ls e ∷ short)
    (after-cause (no_such ls e) (ambiguous ls e ∷ misplaced ls e ∷ tail) short (dropped front None (long ∷ None ∷ []) refl ∙ (last-none (from_absent ls e long) None refl ∙ few-own ls Every n c long)))
    ∙ (ap (λ z. whole z long) j ∙ ap (whole i) k)))

-- ---- by what is found

-- the cause of a change of nothing
idle-told : (ls : List LocatedLine) (n : List ℕ) (c : ValueChange) → IsFaithful ls → is_prefix_name n ≡ false → idle c (length (filter (is_changed_located n c) ls)) ≡ idle_cause (classed_lines (located_text ls)) Every n c
idle-told ls n (Set v) h p = refl
idle-told ls n (SetIf o v) h p =
    ap (λ b. where_holds b Absent) (none-pass (is_changed_located n (SetIf o v)) ls ∙ ap not (any-told (is_changed_located n (SetIf o v)) (is_changed n (SetIf o v)) (changed-told n (SetIf o v) p) ls h))
idle-told ls n (Append v) h p = refl
idle-told ls n (Add w) h p =
    ap (λ b. where_holds b Already) (none-pass (is_changed_located n (Add w)) ls ∙ ap not (any-told (is_changed_located n (Add w)) (is_changed n (Add w)) (changed-told n (Add w) p) ls h))
idle-told ls n (Remove w) h p =
    ap (λ b. where_holds b Absent) (none-pass (is_changed_located n (Remove w)) ls ∙ ap not (any-told (is_changed_located n (Remove w)) (is_changed n (Remove w)) (changed-told n (Remove w) p) ls h))

-- The first cause that holds of a change of the values of a document, as its findings tell it, if no field is bad.
pub causes-told : (ls : List LocatedLine) (e : Edit) (n : List ℕ) (c : ValueChange) (f : Findings) (size : ℕ) → e ≡ ChangeValue Every n c → IsFaithful ls → bad_argument e ≡ None → reserved e ≡ None → f ≡ findings_on n c ls → size ≡ size_of ls → size_of ls ≤ max_text
    → first_of_findings c f size ≡ first_cause (causes (located_text ls) (classed_lines (located_text ls)) e)
causes-told ls e n c f size is h bad res i k few =
    let t = located_text ls in
    let ds = classed_lines t in
    let b : bad_argument (ChangeValue Every n c) ≡ None = ap bad_argument (sym is) ∙ bad in
    let r : reserved (ChangeValue Every n c) ≡ None = ap reserved (sym is) ∙ res in
    let p = not_prefix n r in
    let unread = list_any (λ l. is_unread_prefix l.class) ds in
    let there = list_any (λ l. assigns n l.class) ds in
    let opened = list_any (λ l. is_changed n c l && is_open_to c (Some l.class)) ds in
    let u : f.has_unread_prefix ≡ unread = ap (λ (z : Findings). z.has_unread_prefix) i ∙ (found-unread n c nothing_found ls ∙ unread-told ls h) in
    let a : f.is_there ≡ there = ap (λ (z : Findings). z.is_there) i ∙ (found-there n c nothing_found ls ∙ any-told (assigns_located n) (λ l. assigns n l.class) (assigns-located n) ls h) in
    let o : f.is_open ≡ opened = ap (λ (z : Findings). z.is_open) i ∙ (found-open n c nothing_found ls ∙ any-told (is_opened n c) (λ l. is_changed n c l && is_open_to c (Some l.class)) (opened-told n c p) ls h) in
    let lines : f.lines ≡ length (filter (is_changed_located n c) ls) = omega (arith, ap (λ (z : Findings). z.lines) i, found-lines n c nothing_found ls) in
    let spared : f.spared ≡ spared_in n c ls = omega (arith, ap (λ (z : Findings). z.spared) i, found-spared n c nothing_found ls) in
    let g = is_long n c ls in
    let long : nat_lt (max_text + f.spared) (size + f.lines * put_by c) ≡ g =
    ap (λ z. nat_lt (max_text + z) (size + f.lines * put_by c)) spared
    ∙ (ap (λ z. nat_lt (max_text + spared_in n c ls) (z + f.lines * put_by c)) k ∙ ap (λ z. nat_lt (max_text + spared_in n c ls) (size_of ls + z * put_by c)) lines) in
    let idles : idle c f.lines ≡ idle_cause ds Every n c = ap (idle c) lines ∙ idle-told ls n c h p in
    ap (λ z. first_said z f.is_there (idle c f.lines) f.is_open (nat_lt (max_text + f.spared) (size + f.lines * put_by c))) u
    ∙ (ap (λ z. first_said unread z (idle c f.lines) f.is_open (nat_lt (max_text + f.spared) (size + f.lines * put_by c))) a
    ∙ (ap (λ z. first_said unread there z f.is_open (nat_lt (max_text + f.spared) (size + f.lines * put_by c))) idles
    ∙ (ap (λ z. first_said unread there (idle_cause ds Every n c) z (nat_lt (max_text + f.spared) (size + f.lines * put_by c))) o
    ∙ (ap (first_said unread there (idle_cause ds Every n c) opened) long
    ∙ (sym (causes-are t ds n c (idle_cause ds Every n c) g b r refl (change-long ls n c h few p)) ∙ ap (λ z. first_cause (causes t ds z)) (sym is))))))
