-- The causes of an edit that come after those that find its line, and what decides them.
use Rattle.std.proofs.Common.{◌≡◌, refl, sym, ap, ◌∙◌, arith, ℕ, ◌+◌, ◌*◌, ◌<◌, ◌≤◌, List, [], ◌∷◌, ◌++◌, ◌||◌, Bool, true, false, length, Option, Some, None}
use Rattle.std.specs.Prelude.{nat_lt}
use Rattle.std.proofs.lemmas.Bool.{lt-ltb, le-ltb, ltb-true, ltb-false}
use Rattle.mk_lines.specs.Limits.{max_text}
use Rattle.mk_lines.specs.Pieces.{Replacement, replaced}
use Rattle.mk_class.specs.ClassedLines.{ClassedLine, classed_lines}
use Rattle.mk_tree.specs.LocatedLines.{LocatedLine, located_text}
use Rattle.mk_edit_language.specs.Edits.{Edit, ChangeValue, ChangeLine, ChangePrereqs, AddLine, AddRecipe, SetRecipe, RemoveLines, RenameTarget, SwitchLine, ExchangeLines, EachLine}
use Rattle.mk_edit_language.specs.EditSpans.{spans_of}
use Rattle.mk_edit_language.specs.Stretches.{Stretch, insertion, removal}
use Rattle.mk_edit_language.specs.Causes.{where_holds}
use Rattle.mk_edit_language.specs.ArgumentCauses.{bad_argument, reserved}
use Rattle.mk_edit_language.specs.AddressCauses.{unread_prefix, no_such, ambiguous, misplaced}
use Rattle.mk_edit_language.specs.RuleCauses.{absent, already, taken, shared_rule, straddles}
use Rattle.mk_edit_language.specs.LineCauses.{open_value, open_line, open_define, leaning, new_line_leans, removal_leans, switched_leans, too_long, misread}
use Rattle.mk_edit_language.specs.Lengths.{bytes_taken, bytes_put}
use Rattle.mk_edit_language.specs.Refusals.{first_cause, causes, not_exchanged}
use Rattle.mk_edit_language.specs.declared.refusal.Refusal.{Refusal}
use Rattle.mk_edit_language.specs.declared.refusal.Refusal.TheVariants.{Leans, TooLong}
use Rattle.mk_edit_language.proofs.on_edits.Accepted.{one_place-not_exchanged}
use Rattle.mk_edit_language.proofs.on_edits.LengthLemmas.{length-replaced}
use Rattle.mk_edit_language.proofs.on_edits.SpansRise.{spans-rise}
use Rattle.mk_edit_parts.specs.Found.{IsAddressed}
use Rattle.mk_edit_parts.specs.declared.seek.Found.{Found}
use Rattle.mk_edit_parts.proofs.CauseLemmas.{passed}

-- ---- an edit's own causes, in their order, but for Misread

abbrev pub own_causes : (text : List ℕ) → List ClassedLine → Edit → List (Option Refusal)
own_causes t ls e =
    misplaced ls e
    ∷ absent ls e
    ∷ already ls e
    ∷ taken ls e
    ∷ shared_rule ls e
    ∷ straddles ls e
    ∷ open_value ls e
    ∷ open_line ls e
    ∷ open_define ls e
    ∷ leaning ls e
    ∷ too_long t (spans_of t ls e)
    ∷ []

-- a cause among others that does not hold
pub dropped : (cs : List (Option Refusal)) (o : Option Refusal) (ds : List (Option Refusal)) → o ≡ None → first_cause (cs ++ o ∷ ds) ≡ first_cause (cs ++ ds)
dropped [] o ds h = ap (λ z. first_cause (z ∷ ds)) h
dropped (None ∷ cs) o ds h = dropped cs o ds h
dropped (Some r ∷ cs) o ds h = refl

-- the edit's own causes, with Misread, decide, once the line is found
pub addressed-all : (e : Edit) (ls : List LocatedLine) (f : Found) (r : Option Refusal) → IsAddressed e ls f
    → first_cause (own_causes (located_text ls) (classed_lines (located_text ls)) e ++ misread (classed_lines (located_text ls)) e ∷ []) ≡ r
    → first_cause (causes (located_text ls) (classed_lines (located_text ls)) e) ≡ r
addressed-all e ls f r A h =
    let cs = classed_lines (located_text ls) in
    let t = located_text ls in
    let places =
    misplaced cs e
    ∷ absent cs e
    ∷ already cs e
    ∷ taken cs e
    ∷ shared_rule cs e
    ∷ straddles cs e
    ∷ open_value cs e
    ∷ open_line cs e
    ∷ open_define cs e
    ∷ leaning cs e
    ∷ [] in
    let own = dropped places (not_exchanged t cs e) (too_long t (spans_of t cs e) ∷ misread cs e ∷ []) (one_place-not_exchanged t cs e A.one_place) in
    passed (bad_argument e) _ r A.arguments
    (passed (reserved e) _ r A.not_reserved
    (passed (unread_prefix cs) _ r A.prefix_read (passed (no_such cs e) _ r A.is_there (passed (ambiguous cs e) _ r A.is_one (own ∙ h)))))

-- causes before another that does not hold
pub last-none : (cs : List (Option Refusal)) (o : Option Refusal) → o ≡ None → first_cause (cs ++ o ∷ []) ≡ first_cause cs
last-none [] o h = ap (λ z. first_cause (z ∷ [])) h
last-none (None ∷ cs) o h = last-none cs o h
last-none (Some r ∷ cs) o h = refl

-- a cause before others
pub first-before : (cs ds : List (Option Refusal)) (r : Refusal) → first_cause cs ≡ Some r → first_cause (cs ++ ds) ≡ Some r
first-before [] ds r h = absurd (cc)
first-before (None ∷ cs) ds r h = first-before cs ds r h
first-before (Some q ∷ cs) ds r h = h

-- they decide without it, if it does not hold
pub addressed-own : (e : Edit) (ls : List LocatedLine) (f : Found) (r : Option Refusal) → IsAddressed e ls f → misread (classed_lines (located_text ls)) e ≡ None
    → first_cause (own_causes (located_text ls) (classed_lines (located_text ls)) e) ≡ r → first_cause (causes (located_text ls) (classed_lines (located_text ls)) e) ≡ r
addressed-own e ls f r A m h =
    addressed-all e ls f r A (last-none (own_causes (located_text ls) (classed_lines (located_text ls)) e) (misread (classed_lines (located_text ls)) e) m ∙ h)

-- and so does one of them that holds
pub addressed-first : (e : Edit) (ls : List LocatedLine) (f : Found) (r : Refusal) → IsAddressed e ls f
    → first_cause (own_causes (located_text ls) (classed_lines (located_text ls)) e) ≡ Some r → first_cause (causes (located_text ls) (classed_lines (located_text ls)) e) ≡ Some r
addressed-first e ls f r A h =
    addressed-all e ls f (Some r) A (first-before (own_causes (located_text ls) (classed_lines (located_text ls)) e) (misread (classed_lines (located_text ls)) e ∷ []) r h)

-- ---- Leans, of an edit that takes lines out

-- an edit that takes lines out is never misread
pub removal-read : (ls : List ClassedLine) (e : Edit) (s : Stretch) → removal ls e ≡ Some s → misread ls e ≡ None
removal-read ls (ChangeLine nth n c) s h = absurd (cc)
removal-read ls (ChangeValue w n c) s h = refl
removal-read ls (ChangePrereqs nth g c) s h = refl
removal-read ls (AddLine p l) s h = refl
removal-read ls (AddRecipe nth g p c) s h = refl
removal-read ls (SetRecipe nth g w c) s h = refl
removal-read ls (RemoveLines r) s h = refl
removal-read ls (RenameTarget o n) s h = refl
removal-read ls (SwitchLine w nth n) s h = absurd (cc)
removal-read ls (ExchangeLines x ts) s h = refl
removal-read ls (EachLine e) s h = absurd (cc)

-- and switches no line
removal-unswitched : (ls : List ClassedLine) (e : Edit) (s : Stretch) → removal ls e ≡ Some s → switched_leans ls e ≡ false
removal-unswitched ls (SwitchLine w nth n) s h = absurd (cc)
removal-unswitched ls e s h = refl

pub removal-leaning : (ls : List ClassedLine) (e : Edit) (s : Stretch) (b : Bool) → insertion ls e ≡ None → removal ls e ≡ Some s → b ≡ removal_leans (Some s) → leaning ls e ≡ where_holds b Leans
removal-leaning ls e s b i h k =
    ap (λ b. where_holds (b || (new_line_leans e (insertion ls e) || removal_leans (removal ls e))) Leans) (removal-unswitched ls e s h)
    ∙ (ap (λ o. where_holds (new_line_leans e o || removal_leans (removal ls e)) Leans) i
    ∙ (ap (λ (o : Option Stretch). where_holds (removal_leans o) Leans) h ∙ ap (λ q. where_holds q Leans) (sym k)))

-- ---- TooLong, by how many bytes the spans put in and take out

-- a test with as much added on both sides
same_test : (a b c d : ℕ) → b + c ≡ d → nat_lt a b ≡ nat_lt (a + c) d
same_test a b c d h = go (nat_lt a b) refl
  where
    go : (q : Bool) → nat_lt a b ≡ q → nat_lt a b ≡ nat_lt (a + c) d
    go true k = let l : a < b = ltb-true a b k in k ∙ sym (lt-ltb (a + c) d (omega (arith, l, h)))
    go false k = let l : b ≤ a = ltb-false a b k in k ∙ sym (le-ltb (a + c) d (omega (arith, l, h)))

-- the bytes that spans put in, with these, are those and the bytes that the spans take out
abbrev pub AreBalanced : (spared put : ℕ) → List Replacement → Type 0
AreBalanced s p rs = bytes_put rs + s ≡ p + bytes_taken rs

pub long-by : (t : List ℕ) (e : Edit) (spared put : ℕ) → AreBalanced spared put (spans_of t (classed_lines t) e)
    → too_long t (spans_of t (classed_lines t) e) ≡ where_holds (nat_lt (max_text + spared) (length t + put)) TooLong
long-by t e spared put h =
    let rs = spans_of t (classed_lines t) e in
    let n = length-replaced 0 (length t) t rs (spans-rise t e) (omega arith) in
    ap (λ b. where_holds b TooLong) (same_test max_text (length (replaced 0 t rs)) spared (length t + put) (omega (arith, n, h)))

pub long-said : (t : List ℕ) (e : Edit) (taken put : ℕ) → bytes_taken (spans_of t (classed_lines t) e) ≡ taken → bytes_put (spans_of t (classed_lines t) e) ≡ put
    → too_long t (spans_of t (classed_lines t) e) ≡ where_holds (nat_lt (max_text + taken) (length t + put)) TooLong
long-said t e taken put h k = long-by t e taken put (omega (arith, h, k))

-- whether a text would be too long, by numbers that are equal
pub long-as : (r o : Bool) (k b n s K B N S : ℕ) → r ≡ nat_lt (max_text + b) (s + k * n) → k ≡ K → b ≡ B → n ≡ N → s ≡ S → r ≡ o → nat_lt (max_text + B) (S + K * N) ≡ o
long-as r o k b n s K B N S h k-is b-is n-is s-is e =
    sym (h ∙ (ap (λ z. nat_lt (max_text + b) (s + z * n)) k-is ∙ (ap (λ z. nat_lt (max_text + z) (s + K * n)) b-is ∙ (ap (λ z. nat_lt (max_text + B) (s + K * z)) n-is ∙ ap (λ z. nat_lt (max_text + B) (z + K * N)) s-is)))) ∙ e

-- an edit that puts no bytes in makes no text too long
pub never-long : (t : List ℕ) (e : Edit) → bytes_put (spans_of t (classed_lines t) e) ≡ 0 → length t ≤ max_text → too_long t (spans_of t (classed_lines t) e) ≡ None
never-long t e k few =
    let rs = spans_of t (classed_lines t) e in
    let n = length-replaced 0 (length t) t rs (spans-rise t e) (omega arith) in
    ap (λ b. where_holds b TooLong) (le-ltb max_text (length (replaced 0 t rs)) (omega (arith, n, k, few)))
