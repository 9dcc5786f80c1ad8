-- The causes of an edit of several lines in their order, and what decides each.
use Rattle.std.proofs.Common.{◌≡◌, refl, sym, ap, ◌∙◌, arith, ℕ, ◌+◌, ◌-◌, ◌^◌, ◌≤◌, Bool, true, false, List, [], ◌∷◌, ◌++◌, length, filter, Option, Some, None}
use Rattle.std.specs.Prelude.{min, nat_lt, ◌==◌}
use Rattle.std.proofs.lemmas.Bool.{le-ltb, lt-ltb, ltb-false, ltb-true}
use Rattle.mk_lines.specs.Limits.{max_text}
use Rattle.mk_class.specs.ClassedLines.{ClassedLine, classed_lines}
use Rattle.mk_class.specs.Contexts.{start}
use Rattle.mk_tree.specs.Documents.{IsFaithful}
use Rattle.mk_tree.specs.LocatedLines.{LocatedLine, located_lines, located_text, size_of}
use Rattle.mk_tree.proofs.on_changes.Sizes.{size_of-text}
use Rattle.mk_edit_language.specs.Addresses.{Address, candidates, each_address, nth_meant}
use Rattle.mk_edit_language.specs.AddressCauses.{ambiguous, no_such, no_such_line, misplaced, unread_prefix}
use Rattle.mk_edit_language.specs.ArgumentCauses.{bad_argument, reserved}
use Rattle.mk_edit_language.specs.Causes.{where_holds}
use Rattle.mk_edit_language.specs.EachLine.{each_change, is_each_changed, marked}
use Rattle.mk_edit_language.specs.Edits.{Edit, EachEdit, EachLine}
use Rattle.mk_edit_language.specs.EditSpans.{spans_of}
use Rattle.mk_edit_language.specs.Lengths.{bytes_put, bytes_taken}
use Rattle.mk_edit_language.specs.LineCauses.{leaning, misread, open_define, open_line, open_value, too_long}
use Rattle.mk_edit_language.specs.Refusals.{causes, first_cause, not_exchanged}
use Rattle.mk_edit_language.specs.RuleCauses.{absent, already, shared_rule, straddles, taken}
use Rattle.mk_edit_language.specs.declared.refusal.Refusal.{Refusal}
use Rattle.mk_edit_language.specs.declared.refusal.Refusal.TheVariants.{Absent, NoSuch, RecipePrefix, TooLong}
use Rattle.mk_edit_language.proofs.on_each_line.EachLineSpans.{unmarked}
use Rattle.mk_edit_parts.specs.EachLineWalks.{is_missing_among}
use Rattle.mk_edit_parts.specs.Seeking.{candidates_of}
use Rattle.mk_edit_parts.proofs.CauseLemmas.{passed}
use Rattle.mk_edit_parts.proofs.on_each_line.LinesSeen.{count-reached, missing-told}
use Rattle.mk_edit_parts.proofs.on_finding.SeekLemmas.{unread-told}
use Rattle.mk_edit.specs.EachLineSurveys.{IsOfLines, findings_on, first_of_findings, nothing_found}
use Rattle.mk_edit.specs.declared.each_line_survey.Findings.{Findings}
use Rattle.mk_edit.proofs.on_plans.CausePlans.{first-before, long-said}
use Rattle.mk_edit.proofs.on_renaming.CausesOfRenameTarget.{after-cause}
use Rattle.mk_edit.proofs.on_value_changes.SizesOfChanges.{none-pass}
use Rattle.mk_edit.proofs.on_each_lines.EachPlans.{marked-classed}
use Rattle.mk_edit.proofs.on_each_lines.FindingsTold.{found-reach, found-unread, lines-found}
use Rattle.mk_edit.proofs.on_each_lines.LinesOwned.{of-lines}
use Rattle.mk_edit.proofs.on_each_lines.NotesTold.{all-seen, whole}

-- causes of which none holds, before others
after-none : (cs ds : List (Option Refusal)) → first_cause cs ≡ None → first_cause (cs ++ ds) ≡ first_cause ds
after-none [] ds h = refl
after-none (None ∷ cs) ds h = after-none cs ds h
after-none (Some r ∷ cs) ds h = absurd (cc)

-- the causes that lie in the lines
abbrev line_causes : (text : List ℕ) → List ClassedLine → Edit → List (Option Refusal)
line_causes t ls e = unread_prefix ls ∷ no_such ls e ∷ absent ls e ∷ too_long t (spans_of t ls e) ∷ []

-- if no field is bad, the others do not hold of an edit of several lines
causes-are : (t : List ℕ) (ls : List ClassedLine) (e : EachEdit) → bad_argument (EachLine e) ≡ None → reserved (EachLine e) ≡ None
    → first_cause (causes t ls (EachLine e)) ≡ first_cause (line_causes t ls (EachLine e) ++ misread ls (EachLine e) ∷ [])
causes-are t ls e b r =
    let E = EachLine e in
    let last = too_long t (spans_of t ls E) ∷ misread ls E ∷ [] in
    let behind = already ls E ∷ taken ls E ∷ shared_rule ls E ∷ straddles ls E ∷ open_value ls E ∷ open_line ls E ∷ open_define ls E ∷ leaning ls E ∷ not_exchanged t ls E ∷ last in
    passed (bad_argument E) _ (first_cause (line_causes t ls E ++ misread ls E ∷ [])) b
    (passed (reserved E) _ (first_cause (line_causes t ls E ++ misread ls E ∷ [])) r
    (after-cause (unread_prefix ls) (no_such ls E ∷ ambiguous ls E ∷ misplaced ls E ∷ absent ls E ∷ behind) (no_such ls E ∷ absent ls E ∷ last)
    (after-cause (no_such ls E) (ambiguous ls E ∷ misplaced ls E ∷ absent ls E ∷ behind) (absent ls E ∷ last) (after-cause (absent ls E) behind last refl))))

-- ---- by what is found

-- NoSuch, by how many lines the address may mean
no_such-told : (ds : List ClassedLine) (a : Option Address) (k : ℕ) → k ≡ length (candidates_of ds a) → where_holds (is_missing_among a k) NoSuch ≡ no_such_line ds a
no_such-told ds None k h = refl
no_such-told ds (Some a) k h = ap (λ n. where_holds (is_missing_among (Some a) n) NoSuch) h ∙ ap (λ b. where_holds b NoSuch) (missing-told (nth_meant a) (candidates ds a))

-- a number of bytes that may be capped tells whether a text is too long
long-capped : (t p n s k : ℕ) → t ≤ max_text → n ≡ min p (2 ^ 64 - 1) → s ≡ k → nat_lt (max_text + t) (s + n) ≡ nat_lt (max_text + t) (k + p)
long-capped t p n s k few h e = go (nat_lt (max_text + t) (k + p)) refl
  where
    go : (b : Bool) → nat_lt (max_text + t) (k + p) ≡ b → nat_lt (max_text + t) (s + n) ≡ b
    go true i = lt-ltb (max_text + t) (s + n) (omega (arith, few, h, e, ltb-true (max_text + t) (k + p) i))
    go false i = le-ltb (max_text + t) (s + n) (omega (arith, few, h, e, ltb-false (max_text + t) (k + p) i))

first-told : (u m a g : Bool) (unread missing none long : Option Refusal) → where_holds u RecipePrefix ≡ unread → where_holds m NoSuch ≡ missing → where_holds a Absent ≡ none → where_holds g TooLong ≡ long
    → first_cause (where_holds u RecipePrefix ∷ where_holds m NoSuch ∷ where_holds a Absent ∷ where_holds g TooLong ∷ []) ≡ first_cause (unread ∷ missing ∷ none ∷ long ∷ [])
first-told u m a g unread missing none long h i j k =
    ap (λ z. first_cause (z ∷ where_holds m NoSuch ∷ where_holds a Absent ∷ where_holds g TooLong ∷ [])) h
    ∙ (ap (λ z. first_cause (unread ∷ z ∷ where_holds a Absent ∷ where_holds g TooLong ∷ [])) i
    ∙ (ap (λ z. first_cause (unread ∷ missing ∷ z ∷ where_holds g TooLong ∷ [])) j ∙ ap (λ z. first_cause (unread ∷ missing ∷ none ∷ z ∷ [])) k))

-- the first cause that lies in the lines of a document, as its findings tell it
findings-told : (e : EachEdit) (ls : List LocatedLine) (f : Findings) (size : ℕ) → IsOfLines e → IsFaithful ls → f ≡ findings_on e ls → f.taken ≤ max_text → size ≡ size_of ls
    → first_of_findings e f size ≡ first_cause (line_causes (located_text ls) (classed_lines (located_text ls)) (EachLine e))
findings-told e ls f size o h i few k =
    let t = located_text ls in
    let ds = classed_lines t in
    let ms = marked e ds in
    let c = each_change e in
    let own : f ≡ findings_on e (located_lines (unmarked ms)) = i ∙ ap (findings_on e) (whole e o ls h) in
    let F = lines-found e o nothing_found start ms (marked-classed e ls) (all-seen e o ls h) in
    let lines : f.lines ≡ length (filter (is_each_changed c) ms) = omega (arith, ap (λ (z : Findings). z.lines) own, F.lines) in
    let taken_is : f.taken ≡ bytes_taken (spans_of t ds (EachLine e)) = omega (arith, ap (λ (z : Findings). z.taken) own, F.taken 0) in
    let put_is : f.put ≡ min (bytes_put (spans_of t ds (EachLine e))) (2 ^ 64 - 1) = omega (arith, ap (λ (z : Findings). z.put) own, F.put 0 (omega arith)) in
    let unread : where_holds f.has_unread_prefix RecipePrefix ≡ unread_prefix ds =
    ap (λ b. where_holds b RecipePrefix) (ap (λ (z : Findings). z.has_unread_prefix) i ∙ (found-unread e nothing_found ls ∙ unread-told ls h)) in
    let missing : where_holds (is_missing_among (each_address e) f.reach.count) NoSuch ≡ no_such ds (EachLine e) =
    no_such-told ds (each_address e) f.reach.count (ap (λ (z : Findings). z.reach.count) i ∙ (ap (λ z. z.count) (found-reach e nothing_found ls) ∙ count-reached e ls h)) in
    let none : where_holds (f.lines == 0) Absent ≡ absent ds (EachLine e) = ap (λ n. where_holds (n == 0) Absent) lines ∙ ap (λ b. where_holds b Absent) (none-pass (is_each_changed c) ms) in
    let long : where_holds (nat_lt (max_text + f.taken) (size + f.put)) TooLong ≡ too_long t (spans_of t ds (EachLine e)) =
    ap (λ b. where_holds b TooLong) (long-capped f.taken (bytes_put (spans_of t ds (EachLine e))) f.put size (length t) few put_is (k ∙ size_of-text ls))
    ∙ sym (long-said t (EachLine e) f.taken (bytes_put (spans_of t ds (EachLine e))) (sym taken_is) refl) in
    first-told f.has_unread_prefix (is_missing_among (each_address e) f.reach.count) (f.lines == 0) (nat_lt (max_text + f.taken) (size + f.put)) (unread_prefix ds) (no_such ds (EachLine e)) (absent ds (EachLine e)) (too_long t (spans_of t ds (EachLine e)))
    unread missing none long

-- ---- the whole

module _ (E : Edit) (e : EachEdit) (ls : List LocatedLine) (f : Findings) (size : ℕ) (is : E ≡ EachLine e) (h : IsFaithful ls) (bad : bad_argument E ≡ None) (res : reserved E ≡ None)
    (i : f ≡ findings_on e ls) (few : f.taken ≤ max_text) (k : size ≡ size_of ls) where
  abbrev text : List ℕ
  text = located_text ls

  abbrev lines : List ClassedLine
  lines = classed_lines text

  own-bad : bad_argument (EachLine e) ≡ None
  own-bad = ap bad_argument (sym is) ∙ bad

  own-reserved : reserved (EachLine e) ≡ None
  own-reserved = ap reserved (sym is) ∙ res

  told : first_of_findings e f size ≡ first_cause (line_causes text lines (EachLine e))
  told = findings-told e ls f size (of-lines e own-bad own-reserved) h i few k

  all : first_cause (causes text lines E) ≡ first_cause (line_causes text lines (EachLine e) ++ misread lines (EachLine e) ∷ [])
  all = ap (λ z. first_cause (causes text lines z)) is ∙ causes-are text lines e own-bad own-reserved

  -- a cause that the findings tell
  pub each-refused : (r : Refusal) → first_of_findings e f size ≡ Some r → first_cause (causes text lines E) ≡ Some r
  each-refused r j = all ∙ first-before (line_causes text lines (EachLine e)) (misread lines (EachLine e) ∷ []) r (sym told ∙ j)

  -- none but perhaps Misread
  pub each-accepted : first_of_findings e f size ≡ None → first_cause (causes text lines E) ≡ first_cause (misread lines E ∷ [])
  each-accepted j = all ∙ (after-none (line_causes text lines (EachLine e)) (misread lines (EachLine e) ∷ []) (sym told ∙ j) ∙ ap (λ z. first_cause (misread lines z ∷ [])) (sym is))
