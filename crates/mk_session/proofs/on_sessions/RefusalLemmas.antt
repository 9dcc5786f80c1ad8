-- The machine refuses nothing for want of memory.
use Rattle.std.proofs.Common.{◌≡◌, refl, ap, ◌∙◌, ℕ, Bool, true, false, List, [], ◌∷◌, take, drop, Option, Some, None, Ok, Err}
use Rattle.std.specs.Prelude.{Result, if◌then◌else◌, nat_lt}
use Rattle.mk_lines.specs.Pieces.{Replacement}
use Rattle.mk_lines.specs.Cells.{Cell}
use Rattle.mk_class.specs.Assignments.{Assignment}
use Rattle.mk_class.specs.Classes.{Class}
use Rattle.mk_class.specs.Classes.Class.{Assign}
use Rattle.mk_class.specs.ClassedLines.{ClassedLine, classed_lines}
use Rattle.mk_history.specs.Machine as machine
use Rattle.mk_history.specs.Machine.{Command, Apply, Undo, Redo, Begin, End, Cancel}
use Rattle.mk_history.specs.Shown.{Shown, shown_edited, shown_ended, shown_back, shown_forward}
use Rattle.mk_session.specs.Sessions.{answer, edited, text_with, session_refusal}
use Rattle.mk_edit_language.specs.Edits.{Place, Bottom, AfterRule, Site, AtPlace, OfRuleRun, Which, One, Every, ValueChange, Set, SetIf, Append, Add, Remove, AddPrereq, RemovePrereq, ReplacePrereq, RecipeLine, ByNumber, ByText, At, OfRule, OfRecipe, LineChange, InsertWord, Edit, ChangeValue, ChangeLine, ChangePrereqs, AddLine, AddRecipe, SetRecipe, RemoveLines, RenameTarget, SwitchLine, ExchangeLines, EachLine}
use Rattle.mk_tree.specs.LineTexts.{StandingLine}
use Rattle.mk_edit_language.specs.Addresses.{Address, Variable, address, each_address}
use Rattle.mk_edit_language.specs.Stretches.{Stretch}
use Rattle.mk_edit_language.specs.ValueChanges.{has_value_word}
use Rattle.mk_edit_language.specs.EditSpans.{spans_of}
use Rattle.mk_edit_language.specs.Causes.{or_else, where_holds}
use Rattle.mk_edit_language.specs.ArgumentCauses.{FieldTest, Tested, first_failed, field_tests, bad_argument, reserved}
use Rattle.mk_edit_language.specs.AddressCauses.{unread_prefix, no_such, no_such_line, no_such_value, ambiguous, ambiguous_line, misplaced}
use Rattle.mk_edit_language.specs.RuleCauses.{class_meant, not_one, no_recipe, absent, count_of_word, not_beside, not_inserted, already, taken, shared_by, shared_rule, straddles, straddles_at}
use Rattle.mk_edit_language.specs.LineCauses.{open_value, open_line, open_define, open_define_at, leaning, too_long, misread}
use Rattle.mk_edit_language.specs.LineRuns.{site_found}
use Rattle.mk_edit_language.specs.ExchangeCauses.{exchange_causes}
use Rattle.mk_edit_language.specs.Refusals.{first_cause, unless_refused, not_exchanged, causes, spans}
use Rattle.mk_edit_language.specs.declared.refusal.Refusal.{Refusal}
use Rattle.mk_edit_language.specs.declared.refusal.Refusal.TheVariants.{Reserved, RecipePrefix, NoSuch, Ambiguous, Absent, Already, Taken, SharedRule, Straddles, OpenValue, OpenLine, OpenDefine, Leans, TooLong, NoMemory, Misread}

-- a cause that is not want of memory
abbrev IsOther : Option Refusal → Type 0
IsOther o = o ≡ Some NoMemory → ⊥

-- a refusal that is not want of memory
abbrev IsOtherRefusal : Refusal → Type 0
IsOtherRefusal r = r ≡ NoMemory → ⊥

-- ---- single causes

nothing-other : IsOther None
nothing-other h = absurd (cc)

where_holds-other : (b : Bool) (r : Refusal) → IsOtherRefusal r → IsOther (where_holds b r)
where_holds-other true r other h = let e : r ≡ NoMemory = cc in other e
where_holds-other false r other h = absurd (cc)

first_failed-other : (ts : List FieldTest) → IsOther (first_failed ts)
first_failed-other [] h = absurd (cc)
first_failed-other (Tested f true ∷ ts) h = first_failed-other ts h
first_failed-other (Tested f false ∷ ts) h = absurd (cc)

no_such_line-other : (ls : List ClassedLine) (a : Option Address) → IsOther (no_such_line ls a)
no_such_line-other ls None h = absurd (cc)
no_such_line-other ls (Some a) h = where_holds-other _ NoSuch (λ k. absurd (cc)) h

no_such_value-other : (ls : List ClassedLine) (w : Which) (n : List ℕ) (c : ValueChange) → IsOther (no_such_value ls w n c)
no_such_value-other ls Every n c h = where_holds-other _ NoSuch (λ k. absurd (cc)) h
no_such_value-other ls (One nth) n (SetIf o v) h = where_holds-other _ NoSuch (λ k. absurd (cc)) h
no_such_value-other ls (One nth) n (Set v) h = no_such_line-other ls (Some (Variable nth n)) h
no_such_value-other ls (One nth) n (Append v) h = no_such_line-other ls (Some (Variable nth n)) h
no_such_value-other ls (One nth) n (Add w) h = no_such_line-other ls (Some (Variable nth n)) h
no_such_value-other ls (One nth) n (Remove w) h = no_such_line-other ls (Some (Variable nth n)) h

no_such-other : (ls : List ClassedLine) (e : Edit) → IsOther (no_such ls e)
no_such-other ls (ChangeValue w n c) h = no_such_value-other ls w n c h
no_such-other ls (RenameTarget o n) h = where_holds-other _ NoSuch (λ k. absurd (cc)) h
no_such-other ls (EachLine e) h = no_such_line-other ls (each_address e) h
no_such-other ls e h = no_such_line-other ls (address e) h

ambiguous_line-other : (ls : List ClassedLine) (a : Option Address) → IsOther (ambiguous_line ls a)
ambiguous_line-other ls None h = absurd (cc)
ambiguous_line-other ls (Some a) h = where_holds-other _ (Ambiguous _) (λ k. absurd (cc)) h

straddles_at-other : (ls : List ClassedLine) (p : Place) → IsOther (straddles_at ls p)
straddles_at-other ls (AfterRule nth t) h = where_holds-other _ Straddles (λ k. absurd (cc)) h
straddles_at-other ls p h = nothing-other h

or_else-other : (o c : Option Refusal) → IsOther o → IsOther c → IsOther (or_else o c)
or_else-other None c h k = k
or_else-other (Some r) c h k = h

misplaced-other : (ls : List ClassedLine) (e : Edit) → IsOther (misplaced ls e)
misplaced-other ls (AddLine p l) h = or_else-other (straddles_at ls p) _ (straddles_at-other ls p) (where_holds-other _ RecipePrefix (λ k. absurd (cc))) h
misplaced-other ls (RenameTarget o n) h = where_holds-other _ RecipePrefix (λ k. absurd (cc)) h
misplaced-other ls e h = nothing-other h

not_one-other : (ss : List StandingLine) → IsOther (not_one ss)
not_one-other [] h = absurd (cc)
not_one-other (s ∷ []) h = absurd (cc)
not_one-other (s ∷ r ∷ ss) h = absurd (cc)

no_recipe-other : (ls : List ClassedLine) (nth : Option ℕ) (t : List ℕ) (w : RecipeLine) → IsOther (no_recipe ls nth t w)
no_recipe-other ls nth t (ByNumber k) h = where_holds-other _ Absent (λ j. absurd (cc)) h
no_recipe-other ls nth t (ByText o) h = not_one-other _ h

absent-other : (ls : List ClassedLine) (e : Edit) → IsOther (absent ls e)
absent-other ls (ChangeValue w n (Remove x)) h = where_holds-other _ Absent (λ k. absurd (cc)) h
absent-other ls (ChangeValue w n (SetIf o v)) h = where_holds-other _ Absent (λ k. absurd (cc)) h
absent-other ls (ChangeLine nth n c) h = where_holds-other _ Absent (λ k. absurd (cc)) h
absent-other ls (ChangePrereqs nth t (RemovePrereq w)) h = where_holds-other _ Absent (λ k. absurd (cc)) h
absent-other ls (ChangePrereqs nth t (ReplacePrereq o n)) h = where_holds-other _ Absent (λ k. absurd (cc)) h
absent-other ls (AddRecipe nth t (At k) c) h = where_holds-other _ Absent (λ j. absurd (cc)) h
absent-other ls (SetRecipe nth t w c) h = no_recipe-other ls nth t w h
absent-other ls (RemoveLines (OfRecipe nth t w)) h = no_recipe-other ls nth t w h
absent-other ls (EachLine e) h = where_holds-other _ Absent (λ k. absurd (cc)) h
absent-other ls e h = nothing-other h

not_beside-other : (w n : List ℕ) (a : Assignment Cell) → IsOther (not_beside w n a)
not_beside-other w n a = go (has_value_word n a)
  where
    go : (b : Bool) → IsOther (if b then Some Already else where_holds (nat_lt 1 (count_of_word w a)) (Ambiguous (count_of_word w a)))
    go true h = absurd (cc)
    go false h = where_holds-other _ (Ambiguous _) (λ k. absurd (cc)) h

not_inserted-other : (c : LineChange) (k : Option (Class Cell)) → IsOther (not_inserted c k)
not_inserted-other (InsertWord s w n) (Some (Assign a p)) h = not_beside-other w n a h
not_inserted-other c k h = nothing-other h

already-other : (ls : List ClassedLine) (e : Edit) → IsOther (already ls e)
already-other ls (ChangeValue w n (Add x)) h = where_holds-other _ Already (λ k. absurd (cc)) h
already-other ls (ChangeLine nth n c) h = not_inserted-other c (class_meant ls (Variable nth n)) h
already-other ls (ChangePrereqs nth t (AddPrereq o w)) h = where_holds-other _ Already (λ k. absurd (cc)) h
already-other ls (ChangePrereqs nth t (ReplacePrereq o n)) h = where_holds-other _ Already (λ k. absurd (cc)) h
already-other ls e h = nothing-other h

taken-other : (ls : List ClassedLine) (e : Edit) → IsOther (taken ls e)
taken-other ls (RenameTarget o n) h = where_holds-other _ Taken (λ k. absurd (cc)) h
taken-other ls e h = nothing-other h

shared_rule-other : (ls : List ClassedLine) (e : Edit) → IsOther (shared_rule ls e)
shared_rule-other ls (RemoveLines (OfRule nth t)) h = where_holds-other _ (SharedRule _) (λ k. absurd (cc)) h
shared_rule-other ls e h = nothing-other h

straddles-other : (ls : List ClassedLine) (e : Edit) → IsOther (straddles ls e)
straddles-other ls (RemoveLines (OfRule nth t)) h = where_holds-other _ Straddles (λ k. absurd (cc)) h
straddles-other ls (AddRecipe nth t p c) h = where_holds-other _ Straddles (λ k. absurd (cc)) h
straddles-other ls e h = nothing-other h

open_value-other : (ls : List ClassedLine) (e : Edit) → IsOther (open_value ls e)
open_value-other ls (ChangeValue w n c) h = where_holds-other _ OpenValue (λ k. absurd (cc)) h
open_value-other ls e h = nothing-other h

open_define_at-other : (ls : List ClassedLine) (p : Place) → IsOther (open_define_at ls p)
open_define_at-other ls Bottom h = where_holds-other _ OpenDefine (λ k. absurd (cc)) h
open_define_at-other ls p h = nothing-other h

open_define-other : (ls : List ClassedLine) (e : Edit) → IsOther (open_define ls e)
open_define-other ls (AddLine p l) h = open_define_at-other ls p h
open_define-other ls e h = nothing-other h

misread-other : (ls : List ClassedLine) (e : Edit) → IsOther (misread ls e)
misread-other ls (ChangeLine nth n c) h = where_holds-other _ Misread (λ k. absurd (cc)) h
misread-other ls (SwitchLine w nth n) h = where_holds-other _ Misread (λ k. absurd (cc)) h
misread-other ls (EachLine e) h = where_holds-other _ Misread (λ k. absurd (cc)) h
misread-other ls e h = nothing-other h

-- ---- the first of them

first_cause-other : (o : Option Refusal) (cs : List (Option Refusal)) → IsOther o → IsOther (first_cause cs) → IsOther (first_cause (o ∷ cs))
first_cause-other None cs first rest h = rest h
first_cause-other (Some r) cs first rest h = first h

-- causes, none of which is want of memory
abbrev AreOther : List (Option Refusal) → Type 0
AreOther [] = Unit {0}
AreOther (c ∷ cs) = IsOther c × AreOther cs

first-other : (cs : List (Option Refusal)) → AreOther cs → IsOther (first_cause cs)
first-other [] h = nothing-other
first-other (c ∷ cs) h = first_cause-other c cs h.0 (first-other cs h.1)

-- of the causes of whole lines, the fourth and the fifth are those of a rule, and the eighth is that of a place
shared_by-other : (ts : List (List ℕ)) → IsOther (shared_by ts)
shared_by-other ts h = where_holds-other _ (SharedRule _) (λ k. absurd (cc)) h

rule-other : (t : List ℕ) (ls : List ClassedLine) (s : Site) (ts : List (List ℕ)) (found : Option Stretch) → AreOther (take 2 (drop 3 (exchange_causes t ls s ts found)))
rule-other t ls (AtPlace p) ts found = (nothing-other, (straddles_at-other ls p, tt))
rule-other t ls (OfRuleRun nth g) ts found = (shared_by-other _, (where_holds-other _ Straddles (λ k. absurd (cc)), tt))
rule-other t ls s ts found = (nothing-other, (nothing-other, tt))

place-other : (t : List ℕ) (ls : List ClassedLine) (s : Site) (ts : List (List ℕ)) (found : Option Stretch) → AreOther (take 1 (drop 7 (exchange_causes t ls s ts found)))
place-other t ls (AtPlace p) ts found = (open_define_at-other ls p, tt)
place-other t ls s ts found = (nothing-other, tt)

and : {A B : Type 0} → A → B → A × B
and x y = (x, y)

exchange_causes-other : (t : List ℕ) (ls : List ClassedLine) (s : Site) (ts : List (List ℕ)) (found : Option Stretch) → AreOther (exchange_causes t ls s ts found)
exchange_causes-other t ls s ts found =
    and (where_holds-other _ NoSuch (λ k. absurd (cc)))
    (and (where_holds-other _ Already (λ k. absurd (cc)))
    (and (where_holds-other _ (Ambiguous _) (λ k. absurd (cc)))
    (and (rule-other t ls s ts found).0
    (and (rule-other t ls s ts found).1.0
    (and (where_holds-other _ Already (λ k. absurd (cc)))
    (and (where_holds-other _ OpenLine (λ k. absurd (cc)))
    (and (place-other t ls s ts found).0
    (and (where_holds-other _ TooLong (λ k. absurd (cc)))
    (and (where_holds-other _ Misread (λ k. absurd (cc)))
    (and (where_holds-other _ Leans (λ k. absurd (cc)))
    tt))))))))))

not_exchanged-other : (t : List ℕ) (ls : List ClassedLine) (e : Edit) → IsOther (not_exchanged t ls e)
not_exchanged-other t ls (ExchangeLines s ts) h = first-other (exchange_causes t ls s ts (site_found ls s)) (exchange_causes-other t ls s ts (site_found ls s)) h
not_exchanged-other t ls e h = nothing-other h

causes-other : (t : List ℕ) (ls : List ClassedLine) (e : Edit) → IsOther (first_cause (causes t ls e))
causes-other t ls e =
    first_cause-other (bad_argument e) _ (first_failed-other (field_tests e))
    (first_cause-other (reserved e) _ (where_holds-other _ Reserved (λ k. absurd (cc)))
    (first_cause-other (unread_prefix ls) _ (where_holds-other _ RecipePrefix (λ k. absurd (cc)))
    (first_cause-other (no_such ls e) _ (no_such-other ls e)
    (first_cause-other (ambiguous ls e) _ (ambiguous_line-other ls (address e))
    (first_cause-other (misplaced ls e) _ (misplaced-other ls e)
    (first_cause-other (absent ls e) _ (absent-other ls e)
    (first_cause-other (already ls e) _ (already-other ls e)
    (first_cause-other (taken ls e) _ (taken-other ls e)
    (first_cause-other (shared_rule ls e) _ (shared_rule-other ls e)
    (first_cause-other (straddles ls e) _ (straddles-other ls e)
    (first_cause-other (open_value ls e) _ (open_value-other ls e)
    (first_cause-other (open_line ls e) _ (where_holds-other _ OpenLine (λ k. absurd (cc)))
    (first_cause-other (open_define ls e) _ (open_define-other ls e)
    (first_cause-other (leaning ls e) _ (where_holds-other _ Leans (λ k. absurd (cc)))
    (first_cause-other (not_exchanged t ls e) _ (not_exchanged-other t ls e)
    (first_cause-other (too_long t (spans_of t ls e)) _ (where_holds-other _ TooLong (λ k. absurd (cc)))
    (first_cause-other (misread ls e) [] (misread-other ls e)
    nothing-other)))))))))))))))))

unless_refused-other : (o : Option Refusal) (rs : List Replacement) → IsOther o → unless_refused o rs ≡ Err NoMemory → ⊥
unless_refused-other None rs other h = absurd (cc)
unless_refused-other (Some r) rs other h = let e : r ≡ NoMemory = cc in other (ap Some e)

-- no edit is refused for want of memory by its causes
spans-other : (t : List ℕ) (e : Edit) → spans t e ≡ Err NoMemory → ⊥
spans-other t e h = unless_refused-other (first_cause (causes t (classed_lines t) e)) (spans_of t (classed_lines t) e) (causes-other t (classed_lines t) e) h

edited-other : (t : List ℕ) (r : Result (List Replacement) Refusal) → (r ≡ Err NoMemory → ⊥) → text_with t r ≡ Err NoMemory → ⊥
edited-other t (Ok rs) other h = absurd (cc)
edited-other t (Err q) other h = let e : q ≡ NoMemory = cc in other (ap (λ x. Err x) e)

-- ---- what a call answers

-- Not for want of memory, as the answers of an edit have it.
abbrev IsOtherAnswer : Result (Shown (List ℕ)) (machine.Refusal Refusal) → Type 0
IsOtherAnswer a = a ≡ Err (machine.EditRefused NoMemory) → ⊥

-- no call but an edit is refused as an edit: by whether a group is open, and whether there is a text to go to
by_group-other : (b : Option (List ℕ)) (begun : List ℕ → Result (Shown (List ℕ)) (machine.Refusal Refusal)) (none : Result (Shown (List ℕ)) (machine.Refusal Refusal)) → ((t : List ℕ) → IsOtherAnswer (begun t)) → IsOtherAnswer none
    → IsOtherAnswer (elim b as (λ (x : Option (List ℕ)). Result (Shown (List ℕ)) (machine.Refusal Refusal)) [ Some t ↦ begun t | None ↦ none ])
by_group-other None begun none p q = q
by_group-other (Some t) begun none p q = p t

shown_back-other : (s : Shown (List ℕ)) (ts : List (List ℕ)) → IsOtherAnswer (shown_back s ts)
shown_back-other s [] h = absurd (cc)
shown_back-other s (t ∷ ts) h = absurd (cc)

shown_forward-other : (s : Shown (List ℕ)) (ts : List (List ℕ)) → IsOtherAnswer (shown_forward s ts)
shown_forward-other s [] h = absurd (cc)
shown_forward-other s (t ∷ ts) h = absurd (cc)

-- an edit is not refused for want of memory by the machine
edit-other : (e : Edit) (s : Shown (List ℕ)) → IsOtherAnswer (answer (Apply e) s)
edit-other e s h = go (edited e s.text) refl h
  where
    go : (a : Result (List ℕ) Refusal) → edited e s.text ≡ a
        → elim a as (λ (x : Result (List ℕ) Refusal). Result (Shown (List ℕ)) (machine.Refusal Refusal)) [ Ok new ↦ Ok (shown_edited new s) | Err x ↦ Err (machine.EditRefused x) ] ≡ Err (machine.EditRefused NoMemory) → ⊥
    go (Ok new) k h = absurd (cc)
    go (Err x) k h = let same : x ≡ NoMemory = cc in edited-other s.text (spans s.text e) (spans-other s.text e) (k ∙ ap (λ y. Err y) same)

memory-refused : (c : Command Edit) (s : Shown (List ℕ)) → IsOtherAnswer (answer c s)
memory-refused (Apply e) s = edit-other e s
memory-refused Undo s = by_group-other s.begun (λ t. Err machine.GroupOpen) (shown_back s s.back) (λ t h. absurd (cc)) (shown_back-other s s.back)
memory-refused Redo s = by_group-other s.begun (λ t. Err machine.GroupOpen) (shown_forward s s.forward) (λ t h. absurd (cc)) (shown_forward-other s s.forward)
memory-refused Begin s = by_group-other s.begun (λ t. Err machine.GroupOpen) (Ok (record s { begun = Some s.text; pending = 0 })) (λ t h. absurd (cc)) (λ h. absurd (cc))
memory-refused End s = by_group-other s.begun (λ t. Ok (shown_ended t s.pending s)) (Err machine.NoGroup) (λ t h. absurd (cc)) (λ h. absurd (cc))
memory-refused Cancel s = by_group-other s.begun (λ t. Ok (record s { text = t; begun = None; pending = 0 })) (Err machine.NoGroup) (λ t h. absurd (cc)) (λ h. absurd (cc))

-- the machine refuses nothing for want of memory
pub answer-other : (c : Command Edit) (s : Shown (List ℕ)) (q : machine.Refusal Refusal) → answer c s ≡ Err q → session_refusal q ≡ NoMemory → ⊥
answer-other c s (machine.EditRefused r) h memory = memory-refused c s (h ∙ ap (λ x. Err (machine.EditRefused x)) memory)
answer-other c s machine.NothingToUndo h memory = absurd (cc)
answer-other c s machine.NothingToRedo h memory = absurd (cc)
answer-other c s machine.GroupOpen h memory = absurd (cc)
answer-other c s machine.NoGroup h memory = absurd (cc)
