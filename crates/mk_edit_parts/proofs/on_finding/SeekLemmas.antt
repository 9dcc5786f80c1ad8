-- What a walk over the lines of a document has seen is what an address means.
use Rattle.std.proofs.Common.{◌≡◌, refl, sym, ap, ◌∙◌, subst, arith, ℕ, zero, suc, ◌+◌, ◌==◌, ◌≤◌, ◌&&◌, ◌||◌, List, [], ◌∷◌, map, Bool, true, false, if◌then◌else◌, length, zero-add, Option, Some, None, option_map}
use Rattle.std.specs.List.{list_any}
use Rattle.std.proofs.lemmas.Bool.{ne_eqb, eq-eqb}
use Rattle.std.proofs.lemmas.List.{length-map}
use Rattle.std.proofs.Math.Bool.{or_assoc}
use Rattle.mk_lines.specs.Cells.{joined_byte}
use Rattle.mk_class.specs.Contexts.{Context, start, context_after}
use Rattle.mk_class.specs.LocatedClasses.{located_class}
use Rattle.mk_class.specs.ClassTable.{class_of}
use Rattle.mk_class.specs.ClassedLines.{ClassedLine, classed_lines, context_after_lines}
use Rattle.mk_tree.specs.LocatedLines.{LocatedLine, located_line, located_lines, located_text}
use Rattle.mk_tree.specs.Documents.{IsFaithful, context_of}
use Rattle.mk_tree.proofs.on_documents.LinesInText.{AreClassed, AreClassed-class, AreClassed-tail, AreClassed-lines}
use Rattle.mk_tree.specs.LineTexts.{StandingLine}
use Rattle.mk_edit_language.specs.Spots.{spots, spot_if, under, only_last, nth_of}
use Rattle.mk_edit_language.specs.Addresses.{Address, Variable, LastVariable, Rule, assigns, is_rule_for, Valued, Commented, has_value}
use Rattle.mk_edit_language.specs.AddressCauses.{is_unread_prefix}
use Rattle.mk_edit_parts.specs.LocatedParts.{AreEachClassed, is_unread_located, has_value_located}
use Rattle.mk_edit_parts.specs.Seeking.{may_mean, wanted, standing_found, candidates_of, IsNumbered, IsSought}
use Rattle.mk_edit_language.specs.Comments.{says_name}
use Rattle.mk_edit_parts.specs.SeekWalks.{noted_by, noted, seek, nothing_seen}
use Rattle.mk_edit_parts.specs.declared.seek.Found.{Found}
use Rattle.mk_edit_parts.specs.declared.seek.Sought.{Sought}
use Rattle.mk_edit_parts.proofs.on_finding.PartLemmas.{assigns-located, has_value-located, says_name-located, rule_for-located, unread-located}

-- a test of lines as a document shows them is one of lines as they are defined
abbrev AgreeAlong : (LocatedLine → Bool) → (ClassedLine → Bool) → List ClassedLine → Type 0
AgreeAlong p q [] = Unit {0}
AgreeAlong p q (l ∷ ls) = (p (located_line l) ≡ q l) × AgreeAlong p q ls

-- where a spot of some lines stands; the first of these lines stands at this place
abbrev place_from : Found → StandingLine → Found
place_from f s = record { at = f.at + length s.above; context = context_after_lines f.context s.above }

-- one line on
abbrev next : Found → ClassedLine → Found
next f l = record { at = f.at + 1; context = context_after f.context l.class }

-- ---- the end, and the prefix

seek-end : (p : LocatedLine → Bool) (w : ℕ) (s : Sought) (ls : List ClassedLine) → (seek p w s (located_lines ls)).end ≡ record { at = s.end.at + length ls; context = context_after_lines s.end.context ls }
seek-end p w s [] = let n : s.end.at ≡ s.end.at + 0 = omega arith in ap (λ (n : ℕ). record { at = n; context = s.end.context }) n
seek-end p w s (l ∷ ls) =
    let n : s.end.at + 1 + length ls ≡ s.end.at + suc (length ls) = omega arith in
    seek-end p w (noted p w (located_line l) s) ls ∙ ap (λ (n : ℕ). record { at = n; context = context_after_lines (context_after s.end.context l.class) ls }) n

or-false : (a : Bool) → a ≡ (a || false)
or-false true = refl
or-false false = refl

seek-unread : (p : LocatedLine → Bool) (w : ℕ) (s : Sought) (ls : List ClassedLine) → AgreeAlong is_unread_located (λ l. is_unread_prefix l.class) ls
    → (seek p w s (located_lines ls)).has_unread_prefix ≡ (s.has_unread_prefix || list_any (λ l. is_unread_prefix l.class) ls)
seek-unread p w s [] A = or-false s.has_unread_prefix
seek-unread p w s (l ∷ ls) A =
    let below = list_any (λ l. is_unread_prefix l.class) ls in
    seek-unread p w (noted p w (located_line l) s) ls A.1 ∙ (ap (λ b. (s.has_unread_prefix || b) || below) A.0 ∙ or_assoc s.has_unread_prefix (is_unread_prefix l.class) below)

-- ---- how many

-- how many spots there are, if the first line is a spot and if it is not
spots-count : (b : Bool) (first : StandingLine) (l : ClassedLine) (ss : List StandingLine) (n : ℕ) → (if b then n + 1 else n) + length ss ≡ n + length (spot_if b first (map (under l) ss))
spots-count true first l ss n = omega (arith, length-map ss (under l))
spots-count false first l ss n = omega (arith, length-map ss (under l))

seek-count : (p : LocatedLine → Bool) (q : ClassedLine → Bool) (w : ℕ) (s : Sought) (ls : List ClassedLine) → AgreeAlong p q ls → (seek p w s (located_lines ls)).count ≡ s.count + length (spots q ls)
seek-count p q w s [] A = omega arith
seek-count p q w s (l ∷ ls) A =
    seek-count p q w (noted p w (located_line l) s) ls A.1
    ∙ (ap (λ b. (if b then s.count + 1 else s.count) + length (spots q ls)) A.0 ∙ spots-count (q l) (record { above = []; line = l; below = ls }) l (spots q ls) s.count)

-- ---- which

-- the nth of what each thing leads to
pub nth-map : {A B : Type 0} (f : A → B) (n : ℕ) (xs : List A) → nth_of n (map f xs) ≡ option_map f (nth_of n xs)
nth-map f n [] = refl
nth-map f zero (x ∷ xs) = refl
nth-map f (suc zero) (x ∷ xs) = refl
nth-map f (suc (suc n)) (x ∷ xs) = nth-map f (suc n) xs

places-under : (f : Found) (l : ClassedLine) (ss : List StandingLine) (n : ℕ) → option_map (place_from (next f l)) (nth_of n ss) ≡ option_map (place_from f) (nth_of n (map (under l) ss))
places-under f l [] n = refl
places-under f l (s ∷ ss) zero = refl
places-under f l (s ∷ ss) (suc zero) =
    let e : f.at + 1 + length s.above ≡ f.at + suc (length s.above) = omega arith in
    ap (λ (n : ℕ). Some (record { at = n; context = context_after_lines (context_after f.context l.class) s.above })) e
places-under f l (s ∷ ss) (suc (suc n)) = places-under f l ss (suc n)

-- once the wanted one is found, it stays
seek-stays : (p : LocatedLine → Bool) (w : ℕ) (s : Sought) (ls : List LocatedLine) → w ≤ s.count → (seek p w s ls).found ≡ s.found
seek-stays p w s [] h = refl
seek-stays p w s (l ∷ ls) h = seek-stays p w (noted p w l s) ls (bound (p l)) ∙ same (p l)
  where
    same : (b : Bool) → (if b && (s.count + 1 == w) then Some s.end else s.found) ≡ s.found
    same true = ap (λ b. if b then Some s.end else s.found) (ne_eqb (s.count + 1) w (λ i. absurd (omega (arith, i, h))))
    same false = refl

    bound : (b : Bool) → w ≤ (if b then s.count + 1 else s.count)
    bound true = omega (arith, h)
    bound false = h

-- the wanted one is the spot of that number
seek-finds : (p : LocatedLine → Bool) (q : ClassedLine → Bool) (w : ℕ) (ls : List ClassedLine) → AgreeAlong p q ls → (k : ℕ) (s : Sought) → w ≡ s.count + suc k → s.found ≡ None
    → (seek p w s (located_lines ls)).found ≡ option_map (place_from s.end) (nth_of (suc k) (spots q ls))
seek-finds p q w [] A k s e h = h
seek-finds p q w (l ∷ ls) A k s e h =
    ap (λ b. (seek p w (noted_by b (is_unread_located (located_line l)) w (located_line l).class s) (located_lines ls)).found) A.0
    ∙ go (q l) k e (λ j z. seek-finds p q w ls A.1 j z) (λ z. seek-stays p w z (located_lines ls))
  where
    go : (b : Bool) (k : ℕ) → w ≡ s.count + suc k
        → ((j : ℕ) (z : Sought) → w ≡ z.count + suc j → z.found ≡ None → (seek p w z (located_lines ls)).found ≡ option_map (place_from z.end) (nth_of (suc j) (spots q ls)))
        → ((z : Sought) → w ≤ z.count → (seek p w z (located_lines ls)).found ≡ z.found)
        → (seek p w (noted_by b (is_unread_located (located_line l)) w (located_line l).class s) (located_lines ls)).found
        ≡ option_map (place_from s.end) (nth_of (suc k) (spot_if b (record { above = []; line = l; below = ls }) (map (under l) (spots q ls))))
    go true zero e ih stays =
        let z = noted_by true (is_unread_located (located_line l)) w (located_line l).class s in
        let n : s.end.at ≡ s.end.at + 0 = omega arith in
        let is : (s.count + 1 == w) ≡ true = eq-eqb (s.count + 1) w (omega (arith, e)) in
        stays z (omega (arith, e)) ∙ (ap (λ b. if b then Some s.end else s.found) is ∙ ap (λ (n : ℕ). Some (record { at = n; context = s.end.context })) n)
    go true (suc k) e ih stays =
        let z = noted_by true (is_unread_located (located_line l)) w (located_line l).class s in
        let ne : (s.count + 1 == w) ≡ false = ne_eqb (s.count + 1) w (λ i. absurd (omega (arith, i, e))) in
        ih k z (omega (arith, e)) (ap (λ b. if b then Some s.end else s.found) ne ∙ h) ∙ places-under s.end l (spots q ls) (suc k)
    go false k e ih stays = ih k (noted_by false (is_unread_located (located_line l)) w (located_line l).class s) e h ∙ places-under s.end l (spots q ls) (suc k)

-- ---- the lines of a faithful document

each-classed : (c : Context) (ls : List ClassedLine) → AreClassed c ls → AreEachClassed (located_lines ls)
each-classed c [] h = tt
each-classed c (l ∷ ls) h =
    (record { context = c; class_is = ap (located_class joined_byte) (sym (AreClassed-class c l ls h)) }, each-classed (context_after c l.class) ls (AreClassed-tail c l ls h))

-- a test that agrees on each line with its class agrees along
agree-along : (p : LocatedLine → Bool) (q : ClassedLine → Bool) → ((c : Context) (l : ClassedLine) → class_of c l.bytes ≡ l.class → p (located_line l) ≡ q l) → (c : Context) (ls : List ClassedLine) → AreClassed c ls → AgreeAlong p q ls
agree-along p q f c [] h = tt
agree-along p q f c (l ∷ ls) h = (f c l (AreClassed-class c l ls h), agree-along p q f (context_after c l.class) ls (AreClassed-tail c l ls h))

any-along : (p : LocatedLine → Bool) (q : ClassedLine → Bool) (ds : List ClassedLine) → AgreeAlong p q ds → list_any p (located_lines ds) ≡ list_any q ds
any-along p q [] A = refl
any-along p q (l ∷ ds) A = ap (λ b. b || list_any p (located_lines ds)) A.0 ∙ ap (λ b. q l || b) (any-along p q ds A.1)

-- whether one of the lines passes a test, by the lines and by their text
pub any-told : (p : LocatedLine → Bool) (q : ClassedLine → Bool) → ((c : Context) (l : ClassedLine) → class_of c l.bytes ≡ l.class → p (located_line l) ≡ q l) → (ls : List LocatedLine) → IsFaithful ls
    → list_any p ls ≡ list_any q (classed_lines (located_text ls))
any-told p q f ls h =
    let ds = classed_lines (located_text ls) in
    ap (list_any p) h ∙ any-along p q ds (agree-along p q f start ds (AreClassed-lines (located_text ls) ds refl))

-- whether a line sets the recipe prefix in a way that is not read
pub unread-told : (ls : List LocatedLine) → IsFaithful ls → list_any is_unread_located ls ≡ list_any (λ l. is_unread_prefix l.class) (classed_lines (located_text ls))
unread-told ls h = any-told is_unread_located (λ l. is_unread_prefix l.class) unread-located ls h

-- each line has its class
pub faithful-each : (ls : List LocatedLine) → IsFaithful ls → AreEachClassed ls
faithful-each ls h = subst AreEachClassed (sym h) (each-classed start (classed_lines (located_text ls)) (AreClassed-lines (located_text ls) (classed_lines (located_text ls)) refl))

-- whether a line is one that an address may mean
abbrev means : Option Address → ClassedLine → Bool
means None l = false
means (Some (Variable nth n)) l = assigns n l.class
means (Some (LastVariable n)) l = assigns n l.class
means (Some (Valued nth n v)) l = assigns n l.class && has_value v l.class
means (Some (Commented nth n)) l = says_name n l
means (Some (Rule nth t)) l = is_rule_for t l.class

means-located : (a : Option Address) (c : Context) (l : ClassedLine) → class_of c l.bytes ≡ l.class → may_mean a (located_line l) ≡ means a l
means-located None c l h = refl
means-located (Some (Variable nth n)) c l h = assigns-located n c l h
means-located (Some (LastVariable n)) c l h = assigns-located n c l h
means-located (Some (Valued nth n v)) c l h = ap (λ b. b && has_value_located v (located_line l)) (assigns-located n c l h) ∙ ap (λ b. assigns n l.class && b) (has_value-located v c l h)
means-located (Some (Commented nth n)) c l h = says_name-located n c l h
means-located (Some (Rule nth t)) c l h = rule_for-located t c l h

no-spots : (ls : List ClassedLine) → spots (λ l. false) ls ≡ []
no-spots [] = refl
no-spots (l ∷ ls) = ap (map (under l)) (no-spots ls)

candidates-spots : (ls : List ClassedLine) (a : Option Address) → IsNumbered a → candidates_of ls a ≡ spots (means a) ls
candidates-spots ls None i = sym (no-spots ls)
candidates-spots ls (Some (Variable nth n)) i = refl
candidates-spots ls (Some (LastVariable n)) i = absurd i
candidates-spots ls (Some (Valued nth n v)) i = refl
candidates-spots ls (Some (Commented nth n)) i = refl
candidates-spots ls (Some (Rule nth t)) i = refl

-- the spot of any number
seek-nth : (p : LocatedLine → Bool) (q : ClassedLine → Bool) (ls : List ClassedLine) → AgreeAlong p q ls → (w : ℕ) → (seek p w nothing_seen (located_lines ls)).found ≡ option_map (place_from nothing_seen.end) (nth_of w (spots q ls))
seek-nth p q ls A zero = seek-stays p zero nothing_seen (located_lines ls) (omega arith) ∙ none (spots q ls)
  where
    none : (ss : List StandingLine) → None ≡ option_map (place_from nothing_seen.end) (nth_of 0 ss)
    none [] = refl
    none (s ∷ ss) = refl
seek-nth p q ls A (suc k) = seek-finds p q (suc k) ls A k nothing_seen (omega arith) refl

-- counted from the first line
places-first : (o : Option StandingLine) → option_map (place_from nothing_seen.end) o ≡ option_map standing_found o
places-first None = refl
places-first (Some s) = let n : 0 + length s.above ≡ length s.above = omega arith in ap (λ (n : ℕ). Some (record { at = n; context = context_of s.above })) n

pub lines-sought : (ls : List LocatedLine) (a : Option Address) → IsNumbered a → IsFaithful ls → IsSought (classed_lines (located_text ls)) a (seek (may_mean a) (wanted a) nothing_seen ls)
lines-sought ls a i h = subst (λ z. IsSought ds a (seek (may_mean a) (wanted a) nothing_seen z)) (sym h) (record {
  count_is = seek-count (may_mean a) (means a) (wanted a) nothing_seen ds A ∙ (zero-add (length (spots (means a) ds)) ∙ ap length (sym (candidates-spots ds a i)));
  found_is = seek-nth (may_mean a) (means a) ds A (wanted a) ∙ (places-first (nth_of (wanted a) (spots (means a) ds)) ∙ ap (λ ss. option_map standing_found (nth_of (wanted a) ss)) (sym (candidates-spots ds a i)));
  unread_is = seek-unread (may_mean a) (wanted a) nothing_seen ds U;
  end_is = seek-end (may_mean a) (wanted a) nothing_seen ds ∙ ap (λ (n : ℕ). record { at = n; context = context_of ds }) (zero-add (length ds));
})
  where
    ds : List ClassedLine
    ds = classed_lines (located_text ls)

    C : AreClassed start ds
    C = AreClassed-lines (located_text ls) ds refl

    A : AgreeAlong (may_mean a) (means a) ds
    A = agree-along (may_mean a) (means a) (means-located a) start ds C

    U : AgreeAlong is_unread_located (λ l. is_unread_prefix l.class) ds
    U = agree-along is_unread_located (λ l. is_unread_prefix l.class) unread-located start ds C

-- ---- the last line that assigns a name

last-nth : (ss : List StandingLine) → nth_of 1 (only_last ss) ≡ nth_of (length ss) ss
last-nth [] = refl
last-nth (s ∷ []) = refl
last-nth (s ∷ r ∷ ss) = last-nth (r ∷ ss)

last-count : (ss : List StandingLine) → 1 ≤ length ss → 1 ≡ length (only_last ss)
last-count [] h = absurd (omega (arith, h))
last-count (s ∷ []) h = refl
last-count (s ∷ r ∷ ss) h = last-count (r ∷ ss) (omega arith)

none-counted : (ss : List StandingLine) → 0 ≡ length ss → ss ≡ []
none-counted [] h = refl
none-counted (s ∷ ss) h = absurd (omega (arith, h))

-- no line assigns it
pub none-sought : (ls : List ClassedLine) (n : List ℕ) (s : Sought) → IsSought ls (Some (Variable None n)) s → s.count ≡ 0 → IsSought ls (Some (LastVariable n)) s
none-sought ls n s S h =
    let ss = spots (λ l. assigns n l.class) ls in
    let none : ss ≡ [] = none-counted ss (sym h ∙ S.count_is) in
    record {
      count_is = h ∙ ap (λ (z : List StandingLine). length (only_last z)) (sym none);
      found_is = S.found_is ∙ (ap (λ (z : List StandingLine). option_map standing_found (nth_of 1 z)) none ∙ ap (λ (z : List StandingLine). option_map standing_found (nth_of 1 (only_last z))) (sym none));
      unread_is = S.unread_is;
      end_is = S.end_is;
    }

-- the one of the number that was counted is the last
pub last-sought : (ls : List ClassedLine) (n : List ℕ) (k : ℕ) (s t : Sought) → IsSought ls (Some (Variable None n)) s → 1 ≤ s.count → k ≡ s.count → IsSought ls (Some (Variable (Some k) n)) t
    → IsSought ls (Some (LastVariable n)) (record t { count = 1 })
last-sought ls n k s t S h e T =
    let ss = spots (λ l. assigns n l.class) ls in
    record {
      count_is = last-count ss (omega (arith, h, S.count_is));
      found_is = T.found_is ∙ (ap (λ m. option_map standing_found (nth_of m ss)) (e ∙ S.count_is) ∙ ap (option_map standing_found) (sym (last-nth ss)));
      unread_is = T.unread_is;
      end_is = T.end_is;
    }
