-- The operator in the line of an assignment: where it stands, and how long it is.
use Rattle.std.proofs.Common.{◌≡◌, refl, sym, ap, ◌∙◌, subst, arith, ℕ, ◌+◌, ◌-◌, ◌≤◌, Bool, true, false, List, [], ◌∷◌, ◌++◌, map, take, drop, length, length-append, append_assoc, Option, Some, None}
use Rattle.std.proofs.lemmas.List.{length-map, map-append, take-map, length-take-le, take-append-le, take_all}
use Rattle.std.proofs.Math.Seq.{drop-append_seam}
use Rattle.mk_lines.specs.Lists.{concat, leading, after_leading, Each, FirstFails}
use Rattle.mk_lines.specs.Bytes.{is_blank_byte}
use Rattle.mk_lines.specs.Cells.{Cell, joined_byte, joined_text}
use Rattle.mk_lines.specs.Words.{Token, Gap, Word, token_units, is_gap}
use Rattle.mk_lines.proofs.on_lists.ListLemmas.{concat-append, leading-each, after_leading-first_fails, leading-append_all, after_leading-append_all}
use Rattle.mk_class.specs.Symbols.{Symbol, Colon, Equals, Plus, Question, Exclamation, symbol}
use Rattle.mk_class.specs.Assignments.{Assignment, operator_at, operator_length, ends_name, after_blanks, blanks, defined_by, definition, modifier_of, after_units, after_modifier, assignment_of}
use Rattle.mk_class.specs.ListTests.{until, from}
use Rattle.mk_class.specs.LocatedClasses.{width}
use Rattle.mk_class.specs.declared.assignment.Flavor.{Flavor}
use Rattle.mk_class.specs.declared.assignment.Flavor.TheVariants.{Recursive, Simple, PosixSimple, Immediate, Conditional, Append, Shell}
use Rattle.mk_class.specs.declared.assignment.Modifier.{Modifier}
use Rattle.mk_edit_parts.specs.LineChangePlaces.{operator_start}

-- ---- the units of an operator

-- the units of an operator with the blanks around it: gaps, then units that begin with the operator, of which others are behind it
pub record HasOperator (operator : List (List Cell)) (f : Flavor) : Type 0 where
  pub gaps : List (List Cell)
  pub units : List (List Cell)
  pub behind : List (List Cell)
  pub whole : operator ≡ gaps ++ (take (operator_length f) units ++ behind)
  pub are_gaps : Each (is_gap joined_byte) gaps
  pub begins : FirstFails (is_gap joined_byte) units
  pub told : operator_at (map (symbol joined_byte) units) ≡ Some f

defined : (o : Option Flavor) (b n g r : List (List Cell)) (a : Assignment Cell) → Each (is_gap joined_byte) g → FirstFails (is_gap joined_byte) r → operator_at (map (symbol joined_byte) r) ≡ o → defined_by joined_byte o b n g r ≡ Some a
    → HasOperator a.operator a.flavor
defined None b n g r a h k t e = absurd (cc)
defined (Some f) b [] g r a h k t e = absurd (cc)
defined (Some f) b (u ∷ n) g r a h k t e =
    let o : g ++ (take (operator_length f) r ++ blanks joined_byte (drop (operator_length f) r)) ≡ a.operator = cc in
    let l : f ≡ a.flavor = cc in
    subst (λ z. HasOperator z a.flavor) o
    (subst (HasOperator (g ++ (take (operator_length f) r ++ blanks joined_byte (drop (operator_length f) r)))) l
    (record { gaps = g; units = r; behind = blanks joined_byte (drop (operator_length f) r); whole = refl; are_gaps = h; begins = k; told = t }))

definition-operator : (us : List (List Cell)) (a : Assignment Cell) → definition joined_byte us ≡ Some a → HasOperator a.operator a.flavor
definition-operator us a h =
    let named = after_blanks joined_byte us in
    let rest = from (ends_name joined_byte) named in
    defined _ (blanks joined_byte us) (until (ends_name joined_byte) named) (blanks joined_byte rest) (after_blanks joined_byte rest) a (leading-each (is_gap joined_byte) rest) (after_leading-first_fails (is_gap joined_byte) rest) refl h

-- an assignment after more units, or after a modifier, has the same operator
after_units-operator : (u : List Cell) (o : Option (Assignment Cell)) (a : Assignment Cell) → ((b : Assignment Cell) → o ≡ Some b → HasOperator b.operator b.flavor) → after_units joined_byte (u ∷ []) o ≡ Some a → HasOperator a.operator a.flavor
after_units-operator u None a h e = absurd (cc)
after_units-operator u (Some b) a h e =
    let o : b.operator ≡ a.operator = cc in
    let l : b.flavor ≡ a.flavor = cc in
    subst (λ z. HasOperator z a.flavor) o (subst (HasOperator b.operator) l (h b refl))

after_modifier-operator : (m : Option Modifier) (w : List (List Cell)) (o : Option (Assignment Cell)) (a : Assignment Cell) → ((b : Assignment Cell) → o ≡ Some b → HasOperator b.operator b.flavor)
    → elim m [ Some k ↦ after_modifier joined_byte k w o | None ↦ None ] ≡ Some a → HasOperator a.operator a.flavor
after_modifier-operator None w o a h e = absurd (cc)
after_modifier-operator (Some k) w None a h e = absurd (cc)
after_modifier-operator (Some k) w (Some b) a h e =
    let o : b.operator ≡ a.operator = cc in
    let l : b.flavor ≡ a.flavor = cc in
    subst (λ z. HasOperator z a.flavor) o (subst (HasOperator b.operator) l (h b refl))

pub assignment-operator : (ts : List (Token Cell)) (a : Assignment Cell) → assignment_of joined_byte ts ≡ Some a → HasOperator a.operator a.flavor
assignment-operator [] a h = absurd (cc)
assignment-operator (Gap u ∷ ts) a h = after_units-operator u (assignment_of joined_byte ts) a (λ b k. assignment-operator ts b k) h
assignment-operator (Word w ∷ ts) a h = go (definition joined_byte (w ++ token_units ts)) refl (λ b k. assignment-operator ts b k) h
  where
    go : (o : Option (Assignment Cell)) → definition joined_byte (w ++ token_units ts) ≡ o → ((b : Assignment Cell) → assignment_of joined_byte ts ≡ Some b → HasOperator b.operator b.flavor)
        → elim o [ Some b ↦ Some b | None ↦ elim (modifier_of joined_byte w) [ Some k ↦ after_modifier joined_byte k w (assignment_of joined_byte ts) | None ↦ None ] ] ≡ Some a → HasOperator a.operator a.flavor
    go (Some b) e ih k = definition-operator (w ++ token_units ts) a (e ∙ k)
    go None e ih k = after_modifier-operator (modifier_of joined_byte w) w (assignment_of joined_byte ts) a ih k

-- ---- how long it is

-- a symbol that operators have
abbrev is_operator_symbol : Symbol → Bool
is_operator_symbol Colon = true
is_operator_symbol Equals = true
is_operator_symbol Plus = true
is_operator_symbol Question = true
is_operator_symbol Exclamation = true
is_operator_symbol s = false

abbrev IsTaken : List Symbol → Flavor → Type 0
IsTaken ss f = Each is_operator_symbol (take (operator_length f) ss) × (operator_length f ≤ length ss)

taken : (ss : List Symbol) (f : Flavor) → operator_at ss ≡ Some f → IsTaken ss f
taken (Colon ∷ Colon ∷ Colon ∷ Equals ∷ s) f h = let e : Immediate ≡ f = cc in subst (IsTaken (Colon ∷ Colon ∷ Colon ∷ Equals ∷ s)) e ((refl, (refl, (refl, (refl, tt)))), omega arith)
taken (Colon ∷ Colon ∷ Equals ∷ s) f h = let e : PosixSimple ≡ f = cc in subst (IsTaken (Colon ∷ Colon ∷ Equals ∷ s)) e ((refl, (refl, (refl, tt))), omega arith)
taken (Colon ∷ Equals ∷ s) f h = let e : Simple ≡ f = cc in subst (IsTaken (Colon ∷ Equals ∷ s)) e ((refl, (refl, tt)), omega arith)
taken (Question ∷ Equals ∷ s) f h = let e : Conditional ≡ f = cc in subst (IsTaken (Question ∷ Equals ∷ s)) e ((refl, (refl, tt)), omega arith)
taken (Plus ∷ Equals ∷ s) f h = let e : Append ≡ f = cc in subst (IsTaken (Plus ∷ Equals ∷ s)) e ((refl, (refl, tt)), omega arith)
taken (Exclamation ∷ Equals ∷ s) f h = let e : Shell ≡ f = cc in subst (IsTaken (Exclamation ∷ Equals ∷ s)) e ((refl, (refl, tt)), omega arith)
taken (Equals ∷ s) f h = let e : Recursive ≡ f = cc in subst (IsTaken (Equals ∷ s)) e ((refl, tt), omega arith)
taken ss f h = absurd (cc)

-- units that are such symbols are single cells
singles-width : (us : List (List Cell)) → Each is_operator_symbol (map (symbol joined_byte) us) → width us ≡ length us
singles-width [] h = refl
singles-width ([] ∷ us) h = absurd (let q : false ≡ true = h.0 in cc)
singles-width ((x ∷ []) ∷ us) h = omega (arith, singles-width us h.1)
singles-width ((x ∷ y ∷ u) ∷ us) h = absurd (let q : false ≡ true = h.0 in cc)

operator-width : (us : List (List Cell)) (f : Flavor) → operator_at (map (symbol joined_byte) us) ≡ Some f → (width (take (operator_length f) us) ≡ operator_length f) × (operator_length f ≤ length us)
operator-width us f h =
    let n = operator_length f in
    let t = taken (map (symbol joined_byte) us) f h in
    let few : n ≤ length us = omega (arith, t.1, length-map us (symbol joined_byte)) in
    let w = singles-width (take n us) (subst (Each is_operator_symbol) (take-map (symbol joined_byte) n us) t.0) in
    (w ∙ length-take-le n us few, few)

-- some unit stands there
operator-some : (us : List (List Cell)) (f : Flavor) → operator_at (map (symbol joined_byte) us) ≡ Some f → FirstFails (is_gap joined_byte) us → (rest : List (List Cell)) → FirstFails (is_gap joined_byte) (take (operator_length f) us ++ rest)
operator-some us f h k rest = go f us (operator-width us f h).1 k
  where
    go : (f : Flavor) (us : List (List Cell)) → operator_length f ≤ length us → FirstFails (is_gap joined_byte) us → FirstFails (is_gap joined_byte) (take (operator_length f) us ++ rest)
    go f [] few k = none f few
      where
        none : (f : Flavor) → operator_length f ≤ 0 → FirstFails (is_gap joined_byte) (take (operator_length f) [] ++ rest)
        none Recursive few = absurd (omega (arith, few))
        none Simple few = absurd (omega (arith, few))
        none PosixSimple few = absurd (omega (arith, few))
        none Immediate few = absurd (omega (arith, few))
        none Conditional few = absurd (omega (arith, few))
        none Append few = absurd (omega (arith, few))
        none Shell few = absurd (omega (arith, few))
    go Recursive (u ∷ us) few k = k
    go Simple (u ∷ us) few k = k
    go PosixSimple (u ∷ us) few k = k
    go Immediate (u ∷ us) few k = k
    go Conditional (u ∷ us) few k = k
    go Append (u ∷ us) few k = k
    go Shell (u ∷ us) few k = k

-- the parts of an operator's units
pub record IsCutOperator (operator : List (List Cell)) (f : Flavor) (H : HasOperator operator f) : Type 0 where
  pub before : leading (is_gap joined_byte) operator ≡ H.gaps
  pub from_it : after_leading (is_gap joined_byte) operator ≡ take (operator_length f) H.units ++ H.behind
  pub it : take (operator_length f) (after_leading (is_gap joined_byte) operator) ≡ take (operator_length f) H.units
  pub wide : width (take (operator_length f) (after_leading (is_gap joined_byte) operator)) ≡ operator_length f

pub cut-operator : (operator : List (List Cell)) (f : Flavor) (H : HasOperator operator f) → IsCutOperator operator f H
cut-operator operator f H =
    let n = operator_length f in
    let W = operator-width H.units f H.told in
    let first = operator-some H.units f H.told H.begins H.behind in
    let front : after_leading (is_gap joined_byte) operator ≡ take n H.units ++ H.behind = ap (after_leading (is_gap joined_byte)) H.whole ∙ after_leading-append_all (is_gap joined_byte) H.gaps (take n H.units ++ H.behind) H.are_gaps first in
    let size : length (take n H.units) ≡ n = length-take-le n H.units W.1 in
    let it : take n (take n H.units ++ H.behind) ≡ take n H.units = take-append-le n (take n H.units) H.behind (omega (arith, size)) ∙ take_all n (take n H.units) (omega (arith, size)) in
    record {
      before = ap (leading (is_gap joined_byte)) H.whole ∙ leading-append_all (is_gap joined_byte) H.gaps (take n H.units ++ H.behind) H.are_gaps first;
      from_it = front;
      it = ap (take n) front ∙ it;
      wide = ap (λ z. width (take n z)) front ∙ (ap width it ∙ W.0);
    }

-- ---- where it stands in the joined text

-- gaps are blanks of the joined text
gaps-blank : (us : List (List Cell)) → Each (is_gap joined_byte) us → Each is_blank_byte (joined_text (concat us))
gaps-blank [] h = tt
gaps-blank ([] ∷ us) h = absurd (let q : false ≡ true = h.0 in cc)
gaps-blank ((x ∷ []) ∷ us) h = (h.0, gaps-blank us h.1)
gaps-blank ((x ∷ y ∷ u) ∷ us) h = absurd (let q : false ≡ true = h.0 in cc)

-- the first unit of an operator is a single cell, and no blank
first-unblank : (us : List (List Cell)) (f : Flavor) (rest : List Cell) → operator_at (map (symbol joined_byte) us) ≡ Some f → FirstFails (is_gap joined_byte) us → FirstFails is_blank_byte (joined_text (concat (take (operator_length f) us) ++ rest))
first-unblank us f rest h k =
    let t = taken (map (symbol joined_byte) us) f h in
    go f us (omega (arith, t.1, length-map us (symbol joined_byte))) (subst (Each is_operator_symbol) (take-map (symbol joined_byte) (operator_length f) us) t.0) k
  where
    one : (u : List Cell) (cs : List Cell) → is_operator_symbol (symbol joined_byte u) ≡ true → is_gap joined_byte u ≡ false → FirstFails is_blank_byte (joined_text (u ++ cs))
    one [] cs h k = absurd (let q : false ≡ true = h in cc)
    one (x ∷ []) cs h k = k
    one (x ∷ y ∷ u) cs h k = absurd (let q : false ≡ true = h in cc)

    some : (u : List Cell) (us : List (List Cell)) → is_operator_symbol (symbol joined_byte u) ≡ true → is_gap joined_byte u ≡ false → FirstFails is_blank_byte (joined_text (concat (u ∷ us) ++ rest))
    some u us h k = subst (λ z. FirstFails is_blank_byte (joined_text z)) (sym (append_assoc u (concat us) rest)) (one u (concat us ++ rest) h k)

    go : (f : Flavor) (us : List (List Cell)) → operator_length f ≤ length us → Each is_operator_symbol (map (symbol joined_byte) (take (operator_length f) us)) → FirstFails (is_gap joined_byte) us
        → FirstFails is_blank_byte (joined_text (concat (take (operator_length f) us) ++ rest))
    go Recursive (u ∷ us) few h k = some u [] h.0 k
    go Simple (u ∷ us) few h k = some u (take 1 us) h.0 k
    go PosixSimple (u ∷ us) few h k = some u (take 2 us) h.0 k
    go Immediate (u ∷ us) few h k = some u (take 3 us) h.0 k
    go Conditional (u ∷ us) few h k = some u (take 1 us) h.0 k
    go Append (u ∷ us) few h k = some u (take 1 us) h.0 k
    go Shell (u ∷ us) few h k = some u (take 1 us) h.0 k
    go Recursive [] few h k = absurd (omega (arith, few))
    go Simple [] few h k = absurd (omega (arith, few))
    go PosixSimple [] few h k = absurd (omega (arith, few))
    go Immediate [] few h k = absurd (omega (arith, few))
    go Conditional [] few h k = absurd (omega (arith, few))
    go Append [] few h k = absurd (omega (arith, few))
    go Shell [] few h k = absurd (omega (arith, few))

-- the operator begins behind the gaps after the name
pub starts-behind : (operator : List (List Cell)) (f : Flavor) (H : HasOperator operator f) (N rest : List Cell) (e : ℕ) → e ≡ length N → operator_start (joined_text (N ++ (concat operator ++ rest))) e ≡ e + width H.gaps
starts-behind operator f H N rest e k =
    let J = map joined_byte in
    let n = operator_length f in
    let G = concat H.gaps in
    let X = concat (take n H.units) ++ (concat H.behind ++ rest) in
    let cut : concat operator ++ rest ≡ G ++ X =
    ap (λ z. concat z ++ rest) H.whole
    ∙ (ap (λ z. z ++ rest) (concat-append H.gaps (take n H.units ++ H.behind) ∙ ap (λ z. G ++ z) (concat-append (take n H.units) H.behind)) ∙ (append_assoc G (concat (take n H.units) ++ concat H.behind) rest ∙ ap (λ z. G ++ z) (append_assoc (concat (take n H.units)) (concat H.behind) rest))) in
    let whole : J (N ++ (concat operator ++ rest)) ≡ J N ++ (J G ++ J X) =
    map-append joined_byte N (concat operator ++ rest) ∙ ap (λ z. J N ++ z) (ap J cut ∙ map-append joined_byte G X) in
    let at : e ≡ length (J N) = k ∙ sym (length-map N joined_byte) in
    let front : drop e (J N ++ (J G ++ J X)) ≡ J G ++ J X = ap (λ m. drop m (J N ++ (J G ++ J X))) at ∙ drop-append_seam (J N) (J G ++ J X) in
    let behind : after_leading is_blank_byte (J G ++ J X) ≡ J X =
    after_leading-append_all is_blank_byte (J G) (J X) (gaps-blank H.gaps H.are_gaps) (first-unblank H.units f (concat H.behind ++ rest) H.told H.begins) in
    ap (λ t. operator_start t e) whole
    ∙ (ap (λ z. length (J N ++ (J G ++ J X)) - length (after_leading is_blank_byte z)) front
    ∙ (ap (λ z. length (J N ++ (J G ++ J X)) - length z) behind ∙ omega (arith, at, length-append (J N) (J G ++ J X), length-append (J G) (J X), length-map G joined_byte)))
