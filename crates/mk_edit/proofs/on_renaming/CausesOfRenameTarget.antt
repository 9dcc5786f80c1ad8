-- The causes of a rename in their order, and what decides each.
use Rattle.std.proofs.Common.{◌≡◌, refl, sym, ap, ◌∙◌, arith, ℕ, ◌+◌, ◌*◌, ◌<◌, ◌&&◌, Bool, false, not, List, [], ◌∷◌, drop, length, Option, Some, None}
use Rattle.std.specs.List.{list_any}
use Rattle.std.specs.Prelude.{nat_lt}
use Rattle.std.proofs.lemmas.Bool.{and_parts, not-true}
use Rattle.mk_lines.specs.Limits.{max_text}
use Rattle.mk_lines.specs.Units.{is_closed, units}
use Rattle.mk_class.specs.ListTests.{is_empty, last_passes}
use Rattle.mk_class.specs.Arguments.{ends_word, is_ampersand_byte, is_clean, is_target, is_word}
use Rattle.mk_class.specs.ClassedLines.{ClassedLine, classed_lines}
use Rattle.mk_class.specs.Contexts.{start}
use Rattle.mk_class.specs.Texts.{is_one_of}
use Rattle.mk_tree.specs.Documents.{IsFaithful}
use Rattle.mk_tree.specs.LocatedLines.{LocatedLine, located_text, size_of}
use Rattle.mk_tree.proofs.on_changes.Sizes.{size_of-text}
use Rattle.mk_edit_language.specs.Edits.{Edit, RenameTarget}
use Rattle.mk_edit_language.specs.Addresses.{is_a_target, targets_of}
use Rattle.mk_edit_language.specs.ArgumentCauses.{bad_argument, reserved}
use Rattle.mk_edit_language.specs.AddressCauses.{ambiguous, begins_some_renamed_line, is_unread_prefix, no_such, misplaced, unread_prefix}
use Rattle.mk_edit_language.specs.RuleCauses.{absent, already, shared_rule, straddles, taken}
use Rattle.mk_edit_language.specs.Causes.{where_holds}
use Rattle.mk_edit_language.specs.LineCauses.{leaning, open_define, open_line, open_value, too_long, misread}
use Rattle.mk_edit_language.specs.Refusals.{causes, first_cause}
use Rattle.mk_edit_language.specs.EditSpans.{spans_of}
use Rattle.mk_edit_language.specs.declared.refusal.Field.TheVariants as field
use Rattle.mk_edit_language.specs.declared.refusal.Refusal.{Refusal}
use Rattle.mk_edit_language.specs.declared.refusal.Refusal.TheVariants.{RecipePrefix, TooLong}
use Rattle.mk_edit_language.proofs.on_edits.Accepted.{two-passed}
use Rattle.mk_edit.specs.declared.rename_target_effect.Effect.{Effect}
use Rattle.mk_edit.specs.RenameTargetEffects.{effect_on, first_of_lines, first_told, replaced_bytes, replaced_words}
use Rattle.mk_edit_parts.specs.LocatedParts.{is_target_located}
use Rattle.mk_edit_parts.proofs.on_finding.PartLemmas.{target-located}
use Rattle.mk_edit_parts.proofs.on_finding.SeekLemmas.{any-told, unread-told}
use Rattle.mk_edit_parts.proofs.CauseLemmas.{holds, passed}
use Rattle.mk_edit.proofs.on_plans.CausePlans.{long-said}
use Rattle.mk_edit.proofs.on_renaming.CausesOfPrefix.{rename_target-led}
use Rattle.mk_edit.proofs.on_renaming.SizesOfTexts.{rename_target-put, rename_target-taken}

-- ---- the new word

-- the new word is not empty if no field is bad
new-some : (o n : List ℕ) → bad_argument (RenameTarget o n) ≡ None → 0 < length n
new-some o n h =
    let target = (two-passed field.Old field.New (is_target o) (is_target n) h).1 in
    let word = (and_parts (is_word n) (not (last_passes is_ampersand_byte n)) target).0 in
    let filled = (and_parts (not (is_empty n)) (is_clean n && (is_closed (λ b. b) n && not (list_any ends_word (units (λ b. b) n)))) word).0 in
    some n (not-true (is_empty n) filled)
  where
    some : (x : List ℕ) → is_empty x ≡ false → 0 < length x
    some [] e = absurd (cc)
    some (b ∷ x) e = omega arith

-- ---- the causes of an edit

-- the causes of a rename after those that the fields decide; `long` is TooLong
abbrev after_fields : List ClassedLine → Edit → (long : Option Refusal) → List (Option Refusal)
after_fields ls e long =
    unread_prefix ls
    ∷ no_such ls e
    ∷ ambiguous ls e
    ∷ misplaced ls e
    ∷ absent ls e
    ∷ already ls e
    ∷ taken ls e
    ∷ shared_rule ls e
    ∷ straddles ls e
    ∷ open_value ls e
    ∷ open_line ls e
    ∷ open_define ls e
    ∷ leaning ls e
    ∷ None
    ∷ long
    ∷ misread ls e
    ∷ []

-- ---- the causes that the fields decide

-- a bad field is told first, and then a reserved name
pub bad-first : (t : List ℕ) (ls : List ClassedLine) (e : Edit) (r : Refusal) → bad_argument e ≡ Some r → Some r ≡ first_cause (causes t ls e)
bad-first t ls e r h = sym (holds (bad_argument e) (drop 1 (causes t ls e)) r h)

pub reserved-first : (t : List ℕ) (ls : List ClassedLine) (e : Edit) (r : Refusal) → bad_argument e ≡ None → reserved e ≡ Some r → Some r ≡ first_cause (causes t ls e)
reserved-first t ls e r b h =
    let after = drop 2 (causes t ls e) in
    sym (passed (bad_argument e) (reserved e ∷ after) (Some r) b (holds (reserved e) after r h))

-- ---- the causes after those of the fields

-- two lists of causes that say the same do so after one more cause
pub after-cause : (o : Option Refusal) (cs ds : List (Option Refusal)) → first_cause cs ≡ first_cause ds → first_cause (o ∷ cs) ≡ first_cause (o ∷ ds)
after-cause None cs ds h = h
after-cause (Some r) cs ds h = refl

-- the other causes do not hold of a rename
only-these : (t : List ℕ) (ls : List ClassedLine) (o n : List ℕ) (long : Option Refusal)
    → first_cause (after_fields ls (RenameTarget o n) long) ≡ first_cause (unread_prefix ls ∷ no_such ls (RenameTarget o n) ∷ misplaced ls (RenameTarget o n) ∷ taken ls (RenameTarget o n) ∷ long ∷ [])
only-these t ls o n long =
    let e = RenameTarget o n in
    let last = None ∷ long ∷ None ∷ [] in
    let end = long ∷ [] in
    let others = shared_rule ls e ∷ straddles ls e ∷ open_value ls e ∷ open_line ls e ∷ open_define ls e ∷ leaning ls e ∷ last in
    let from_taken = absent ls e ∷ already ls e ∷ taken ls e ∷ others in
    after-cause (unread_prefix ls) (no_such ls e ∷ ambiguous ls e ∷ misplaced ls e ∷ from_taken) (no_such ls e ∷ misplaced ls e ∷ taken ls e ∷ end)
    (after-cause (no_such ls e) (ambiguous ls e ∷ misplaced ls e ∷ from_taken) (misplaced ls e ∷ taken ls e ∷ end)
    (after-cause (misplaced ls e) from_taken (taken ls e ∷ end) (after-cause (taken ls e) others end (after-cause long (None ∷ []) [] refl))))

-- if the fields of a rename are not bad, the first cause is one of five
causes-are : (t : List ℕ) (ls : List ClassedLine) (o n : List ℕ) (l g : Bool) → bad_argument (RenameTarget o n) ≡ None → reserved (RenameTarget o n) ≡ None
    → begins_some_renamed_line o n start ls ≡ l → too_long t (spans_of t ls (RenameTarget o n)) ≡ where_holds g TooLong
    → first_cause (causes t ls (RenameTarget o n)) ≡ first_told (list_any (λ l. is_unread_prefix l.class) ls) (is_a_target ls o) l (is_a_target ls n) g
causes-are t ls o n l g b r i j =
    let e = RenameTarget o n in
    let long = too_long t (spans_of t ls e) in
    let whole : Bool → Option Refusal → Option Refusal = λ l z. first_cause (unread_prefix ls ∷ no_such ls e ∷ where_holds l RecipePrefix ∷ taken ls e ∷ z ∷ []) in
    passed (bad_argument e) (reserved e ∷ after_fields ls e long) (whole l (where_holds g TooLong)) b
    (passed (reserved e) (after_fields ls e long) (whole l (where_holds g TooLong)) r (only-these t ls o n long ∙ (ap (λ z. whole z long) i ∙ ap (whole l) j)))

-- ---- the length

long-is : (ls : List LocatedLine) (o n : List ℕ) → IsFaithful ls
    → too_long (located_text ls) (spans_of (located_text ls) (classed_lines (located_text ls)) (RenameTarget o n)) ≡ where_holds (nat_lt (max_text + replaced_bytes o ls) (size_of ls + replaced_words o ls * length n)) TooLong
long-is ls o n h =
    long-said (located_text ls) (RenameTarget o n) (replaced_bytes o ls) (replaced_words o ls * length n) (rename_target-taken ls o n h) (rename_target-put ls o n h)
    ∙ ap (λ z. where_holds (nat_lt (max_text + replaced_bytes o ls) (z + replaced_words o ls * length n)) TooLong) (sym (size_of-text ls))

-- whether the text is too long, as the effect of the rename tells
long-told : (ls : List LocatedLine) (o n : List ℕ) (f : Effect) (size : ℕ) → f ≡ effect_on o n start ls → size ≡ size_of ls
    → nat_lt (max_text + f.bytes) (size + f.words * length n) ≡ nat_lt (max_text + replaced_bytes o ls) (size_of ls + replaced_words o ls * length n)
long-told ls o n f size h k =
    ap (λ (z : Effect). nat_lt (max_text + z.bytes) (size + z.words * length n)) h ∙ ap (λ z. nat_lt (max_text + replaced_bytes o ls) (z + replaced_words o ls * length n)) k

-- ---- the lines of a document

targets-told : (w : List ℕ) (ls : List LocatedLine) → IsFaithful ls → list_any (is_target_located w) ls ≡ is_a_target (classed_lines (located_text ls)) w
targets-told w ls h = any-told (is_target_located w) (λ l. is_one_of w (targets_of l.class)) (target-located w) ls h

-- The first cause that holds of a rename of a document, as the effect on its lines tells it, if no field of the rename is bad.
pub causes-told : (ls : List LocatedLine) (e : Edit) (o n : List ℕ) (f : Effect) (size : ℕ) → e ≡ RenameTarget o n → IsFaithful ls → bad_argument e ≡ None → reserved e ≡ None → f ≡ effect_on o n start ls → size ≡ size_of ls
    → first_of_lines f size (length n) ≡ first_cause (causes (located_text ls) (classed_lines (located_text ls)) e)
causes-told ls e o n f size is h bad res i k =
    let t = located_text ls in
    let ds = classed_lines t in
    let b : bad_argument (RenameTarget o n) ≡ None = ap bad_argument (sym is) ∙ bad in
    let r : reserved (RenameTarget o n) ≡ None = ap reserved (sym is) ∙ res in
    let g = nat_lt (max_text + f.bytes) (size + f.words * length n) in
    let unread = list_any (λ l. is_unread_prefix l.class) ds in
    let iu : f.has_unread_prefix ≡ unread = ap (λ (z : Effect). z.has_unread_prefix) i ∙ unread-told ls h in
    let if : f.is_there ≡ is_a_target ds o = ap (λ (z : Effect). z.is_there) i ∙ targets-told o ls h in
    let ik : f.is_taken ≡ is_a_target ds n = ap (λ (z : Effect). z.is_taken) i ∙ targets-told n ls h in
    let led : begins_some_renamed_line o n start ds ≡ f.begins_line = rename_target-led ls o n h (new-some o n b) ∙ sym (ap (λ (z : Effect). z.begins_line) i) in
    let long : too_long t (spans_of t ds (RenameTarget o n)) ≡ where_holds g TooLong = long-is ls o n h ∙ ap (λ z. where_holds z TooLong) (sym (long-told ls o n f size i k)) in
    ap (λ z. first_told z f.is_there f.begins_line f.is_taken g) iu
    ∙ (ap (λ z. first_told unread z f.begins_line f.is_taken g) if
    ∙ (ap (λ z. first_told unread (is_a_target ds o) f.begins_line z g) ik
    ∙ (sym (causes-are t ds o n f.begins_line g b r led long) ∙ ap (λ z. first_cause (causes t ds z)) (sym is))))
