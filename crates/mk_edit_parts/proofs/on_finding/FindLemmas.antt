-- The causes before an edit's own, for every edit that means one place.
use Rattle.std.proofs.Common.{◌≡◌, refl, sym, ap, ◌∙◌, subst, List, Bool, true, false, not, ◌&&◌, ◌||◌, ◌∷◌, [], map, length, lt-ltb, ne_eqb, ℕ, suc, arith, Option, Some, None}
use Rattle.std.specs.List.{list_any}
use Rattle.std.specs.Prelude.{Err, nat_lt, ◌==◌, if◌then◌else◌}
use Rattle.mk_class.specs.ListTests.{is_empty}
use Rattle.mk_class.specs.Keywords.{is_reserved_word}
use Rattle.mk_class.specs.RecipePrefix.{is_prefix_name}
use Rattle.mk_class.specs.ClassedLines.{ClassedLine, classed_lines}
use Rattle.mk_edit_language.specs.Edits.{One, Every, Set, SetIf, Append, Add, Remove, CommentOut, Uncomment, OfAssign, OfRule, OfRecipe, Place, Top, Bottom, BeforeVar, AfterVar, AfterLastVar, BeforeRule, AfterRule, Edit, ChangeValue, ChangeLine, ChangePrereqs, AddLine, AddRecipe, SetRecipe, RemoveLines, SwitchLine, RenameTarget, ExchangeLines, EachLine}
use Rattle.mk_edit_language.specs.Addresses.{Address, Valued, Variable, assigns, has_value, candidates, address, place_address}
use Rattle.mk_edit_language.specs.Causes.{where_holds}
use Rattle.mk_edit_language.specs.ArgumentCauses.{bad_argument, reserved, names, targets}
use Rattle.mk_edit_language.specs.AddressCauses.{is_unread_prefix, unread_prefix, is_missing, is_several, assigns_none, is_past, no_such, no_such_line, ambiguous, misplaced}
use Rattle.mk_edit_language.specs.Spots.{spots, spot_if, under, picked}
use Rattle.mk_edit_language.specs.ValueChanges.{has_effect}
use Rattle.mk_edit_language.specs.RuleCauses.{class_found, absent}
use Rattle.mk_tree.specs.LineTexts.{StandingLine}
use Rattle.mk_edit_language.specs.Refusals.{spans, first_cause}
use Rattle.mk_edit_language.specs.KeptLines.{IsOfOnePlace}
use Rattle.mk_edit_language.specs.declared.refusal.Refusal.{Refusal}
use Rattle.mk_edit_language.specs.declared.refusal.Refusal.TheVariants.{Reserved, RecipePrefix, NoSuch, Ambiguous, Absent}
use Rattle.mk_edit_parts.specs.Found.{IsNotPicked, is_absent_at}
use Rattle.mk_edit_parts.proofs.CauseLemmas.{passed, refused}

-- the cause Reserved, and the prefix that is not read, by their tests
pub reserved-holds : (e : Edit) (b : Bool) → b ≡ (list_any is_prefix_name (names e) || list_any is_reserved_word (targets e)) → reserved e ≡ where_holds b Reserved
reserved-holds e b h = ap (λ z. where_holds z Reserved) (sym h)

pub unread-holds : (ls : List ClassedLine) (b : Bool) → b ≡ list_any (λ l. is_unread_prefix l.class) ls → unread_prefix ls ≡ where_holds b RecipePrefix
unread-holds ls b h = ap (λ z. where_holds z RecipePrefix) (sym h)

-- ---- whether there is a line

-- whether some line passes a test is whether there is a spot
any-spots : (p : ClassedLine → Bool) (ls : List ClassedLine) → list_any p ls ≡ not (is_empty (spots p ls))
any-spots p [] = refl
any-spots p (l ∷ ls) = go (p l) (any-spots p ls)
  where
    under-empty : (ss : List StandingLine) → not (is_empty (map (under l) ss)) ≡ not (is_empty ss)
    under-empty [] = refl
    under-empty (s ∷ ss) = refl

    go : (b : Bool) → list_any p ls ≡ not (is_empty (spots p ls)) → (b || list_any p ls) ≡ not (is_empty (spot_if b (record { above = []; line = l; below = ls }) (map (under l) (spots p ls))))
    go true h = refl
    go false h = h ∙ sym (under-empty (spots p ls))

none-assigns : (n : List ℕ) (ls : List ClassedLine) → assigns_none n ls ≡ is_empty (spots (λ l. assigns n l.class) ls)
none-assigns n ls = ap not (any-spots (λ l. assigns n l.class) ls) ∙ twice (is_empty (spots (λ l. assigns n l.class) ls))
  where
    twice : (b : Bool) → not (not b) ≡ b
    twice true = refl
    twice false = refl

-- some line assigns the name if one is counted
pub some-assigns : (n : List ℕ) (ls : List ClassedLine) (k : ℕ) → k ≡ length (candidates ls (Variable None n)) → nat_lt 0 k ≡ not (assigns_none n ls)
some-assigns n ls k h = ap (nat_lt 0) h ∙ (some (spots (λ l. assigns n l.class) ls) ∙ ap not (sym (none-assigns n ls)))
  where
    some : (ss : List StandingLine) → nat_lt 0 (length ss) ≡ not (is_empty ss)
    some [] = refl
    some (s ∷ ss) = lt-ltb 0 (suc (length ss)) (omega arith)

any-weaker : (p q : ClassedLine → Bool) (ls : List ClassedLine) → list_any (λ l. p l && q l) ls ≡ true → list_any p ls ≡ true
any-weaker p q [] h = h
any-weaker p q (l ∷ ls) h = go (p l) (q l) (any-weaker p q ls) h
  where
    go : (a b : Bool) → (list_any (λ m. p m && q m) ls ≡ true → list_any p ls ≡ true) → ((a && b) || list_any (λ m. p m && q m) ls) ≡ true → (a || list_any p ls) ≡ true
    go true b f k = refl
    go false b f k = f k

-- where a line has the value, some line assigns the name
valued-assigned : (ls : List ClassedLine) (nth : Option ℕ) (n o : List ℕ) → is_empty (candidates ls (Valued nth n o)) ≡ false → assigns_none n ls ≡ false
valued-assigned ls nth n o h =
    let some : list_any (λ l. assigns n l.class && has_value o l.class) ls ≡ true = any-spots (λ l. assigns n l.class && has_value o l.class) ls ∙ ap not h in
    ap not (any-weaker (λ l. assigns n l.class) (λ l. has_value o l.class) ls some)

-- whether there is no such line is then told by the address
valued-no_such : (ls : List ClassedLine) (nth : Option ℕ) (n o v : List ℕ) → is_empty (candidates ls (Valued nth n o)) ≡ false
    → no_such ls (ChangeValue (One nth) n (SetIf o v)) ≡ no_such_line ls (Some (Valued nth n o))
valued-no_such ls nth n o v h =
    let C = candidates ls (Valued nth n o) in
    ap (λ b. where_holds (b || is_past nth C) NoSuch) (valued-assigned ls nth n o h) ∙ ap (λ b. where_holds (not b && is_missing nth C) NoSuch) h

-- lines of which the one that is meant is not missing
not_missing-some : (nth : Option ℕ) (ss : List StandingLine) → where_holds (is_missing nth ss) NoSuch ≡ None → is_empty ss ≡ false
not_missing-some None [] h = absurd (cc)
not_missing-some (Some n) [] h = absurd (cc)
not_missing-some nth (s ∷ ss) h = refl

-- an edit whose address means a line is not refused as NoSuch
pub picked-there : (ls : List ClassedLine) (e : Edit) → IsOfOnePlace e → no_such_line ls (address e) ≡ None → no_such ls e ≡ None
picked-there ls (ChangeValue (One nth) n (SetIf o v)) u h = valued-no_such ls nth n o v (not_missing-some nth (candidates ls (Valued nth n o)) h) ∙ h
picked-there ls (ChangeValue (One nth) n (Set v)) u h = h
picked-there ls (ChangeValue (One nth) n (Append v)) u h = h
picked-there ls (ChangeValue (One nth) n (Add w)) u h = h
picked-there ls (ChangeValue (One nth) n (Remove w)) u h = h
picked-there ls (ChangeValue Every n c) u h = absurd u
picked-there ls (ChangeLine nth n c) u h = h
picked-there ls (ChangePrereqs nth g c) u h = h
picked-there ls (AddLine p l) u h = h
picked-there ls (AddRecipe nth g p c) u h = h
picked-there ls (SetRecipe nth g w c) u h = h
picked-there ls (RemoveLines (OfAssign nth n)) u h = h
picked-there ls (RemoveLines (OfRule nth g)) u h = h
picked-there ls (RemoveLines (OfRecipe nth g w)) u h = h
picked-there ls (SwitchLine w nth n) u h = h
picked-there ls (RenameTarget o n) u h = absurd u
picked-there ls (ExchangeLines s ts) u h = absurd u
picked-there ls (EachLine e) u h = absurd u

-- ---- the refusal of an edit whose address means no line

-- the first two causes, before others
two-first : (o p : Option Refusal) (cs : List (Option Refusal)) (r : Refusal) → first_cause (o ∷ p ∷ []) ≡ Some r → first_cause (o ∷ p ∷ cs) ≡ Some r
two-first (Some x) p cs r h = h
two-first None (Some y) cs r h = h
two-first None None cs r h = absurd (cc)

-- the three causes of a value that is set in the place of another, before others
three-first : (o p q : Option Refusal) (cs : List (Option Refusal)) (r : Refusal) → first_cause (o ∷ p ∷ q ∷ []) ≡ Some r → first_cause (o ∷ p ∷ None ∷ q ∷ cs) ≡ Some r
three-first (Some x) p q cs r h = h
three-first None (Some y) q cs r h = h
three-first None None (Some z) cs r h = h
three-first None None None cs r h = absurd (cc)

valued-led : (ls : List ClassedLine) (nth : Option ℕ) (n o v : List ℕ) (r : Refusal) → IsNotPicked ls (Some (Valued nth n o)) r
    → first_cause (no_such ls (ChangeValue (One nth) n (SetIf o v)) ∷ ambiguous ls (ChangeValue (One nth) n (SetIf o v)) ∷ absent ls (ChangeValue (One nth) n (SetIf o v)) ∷ [])
    ≡ Some (if is_absent_at ls (Some (Valued nth n o)) then Absent else r)
valued-led ls nth n o v r h = go (candidates ls (Valued nth n o)) refl nth (assigns_none n ls) refl h
  where
    go : (ss : List StandingLine) → candidates ls (Valued nth n o) ≡ ss → (m : Option ℕ) (b : Bool) → assigns_none n ls ≡ b
        → first_cause (where_holds (is_missing m ss) NoSuch ∷ where_holds (is_several m ss) (Ambiguous (length ss)) ∷ []) ≡ Some r
        → first_cause (where_holds (b || is_past m ss) NoSuch ∷ where_holds (is_several m ss) (Ambiguous (length ss)) ∷ where_holds (not (has_effect (SetIf o v) (class_found (picked m ss)))) Absent ∷ [])
        ≡ Some (if (length ss == 0) && not b then Absent else r)
    go [] i None true e k = k
    go [] i (Some j) true e k = k
    go [] i None false e k = refl
    go [] i (Some j) false e k = refl
    go (s ∷ ss) i m true e k = absurd (let f : true ≡ false = sym e ∙ valued-assigned ls nth n o (ap is_empty i) in cc)
    go (s ∷ ss) i m false e k =
        two-first (where_holds (is_missing m (s ∷ ss)) NoSuch) (where_holds (is_several m (s ∷ ss)) (Ambiguous (length (s ∷ ss)))) (where_holds (not (has_effect (SetIf o v) (class_found (picked m (s ∷ ss))))) Absent ∷ []) r k
        ∙ ap (λ b. Some (if b && true then Absent else r)) (sym (ne_eqb (suc (length ss)) 0 (λ z. absurd (omega (arith, z)))))

-- the causes from whether there is a line
led : (ls : List ClassedLine) (e : Edit) (cs : List (Option Refusal)) (r : Refusal) → IsOfOnePlace e → IsNotPicked ls (address e) r
    → first_cause (no_such ls e ∷ ambiguous ls e ∷ misplaced ls e ∷ absent ls e ∷ cs) ≡ Some (if is_absent_at ls (address e) then Absent else r)
led ls (ChangeValue (One nth) n (SetIf o v)) cs r u h = three-first _ _ _ cs _ (valued-led ls nth n o v r h)
led ls (ChangeValue (One nth) n (Set v)) cs r u h = two-first _ _ _ r h
led ls (ChangeValue (One nth) n (Append v)) cs r u h = two-first _ _ _ r h
led ls (ChangeValue (One nth) n (Add w)) cs r u h = two-first _ _ _ r h
led ls (ChangeValue (One nth) n (Remove w)) cs r u h = two-first _ _ _ r h
led ls (ChangeValue Every n c) cs r u h = absurd u
led ls (ChangeLine nth n c) cs r u h = two-first _ _ _ r h
led ls (ChangePrereqs nth g c) cs r u h = two-first _ _ _ r h
led ls (AddLine p l) cs r u h = two-first _ _ _ r h ∙ ap (λ b. Some (if b then Absent else r)) (of_place p)
  where
    of_place : (p : Place) → false ≡ is_absent_at ls (place_address p)
    of_place Top = refl
    of_place Bottom = refl
    of_place (BeforeVar nth n) = refl
    of_place (AfterVar nth n) = refl
    of_place (AfterLastVar n) = refl
    of_place (BeforeRule nth g) = refl
    of_place (AfterRule nth g) = refl
led ls (AddRecipe nth g p c) cs r u h = two-first _ _ _ r h
led ls (SetRecipe nth g w c) cs r u h = two-first _ _ _ r h
led ls (RemoveLines (OfAssign nth n)) cs r u h = two-first _ _ _ r h
led ls (RemoveLines (OfRule nth g)) cs r u h = two-first _ _ _ r h
led ls (RemoveLines (OfRecipe nth g w)) cs r u h = two-first _ _ _ r h
led ls (SwitchLine CommentOut nth n) cs r u h = two-first _ _ _ r h
led ls (SwitchLine Uncomment nth n) cs r u h = two-first _ _ _ r h
led ls (RenameTarget o n) cs r u h = absurd u
led ls (ExchangeLines s ts) cs r u h = absurd u
led ls (EachLine e) cs r u h = absurd u

pub not_picked-refused : (t : List ℕ) (e : Edit) (a : Option Address) (r q : Refusal) → IsOfOnePlace e → bad_argument e ≡ None → reserved e ≡ None → unread_prefix (classed_lines t) ≡ None → a ≡ address e → IsNotPicked (classed_lines t) a r
    → q ≡ (if is_absent_at (classed_lines t) a then Absent else r) → spans t e ≡ Err q
not_picked-refused t e a r q u f n d h k i =
    let ls = classed_lines t in
    let same : (if is_absent_at ls (address e) then Absent else r) ≡ q = ap (λ z. if is_absent_at ls z then Absent else r) (sym h) ∙ sym i in
    let there = led ls e _ r u (subst (λ z. IsNotPicked ls z r) h k) ∙ ap Some same in
    refused t e q (passed (bad_argument e) _ (Some q) f (passed (reserved e) _ (Some q) n (passed (unread_prefix ls) _ (Some q) d there)))
