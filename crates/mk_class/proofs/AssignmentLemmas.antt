-- Lemmas of the readers of assignments.
use Rattle.std.proofs.Common.{◌≡◌, refl, sym, ap, ◌∙◌, subst, ℕ, suc, ◌+◌, ◌-◌, ◌≤◌, List, [], ◌∷◌, ◌++◌, map, Bool, true, false, not, ◌==◌, cond, length, take, drop, get_or, arith, Option, Some, None, Bor}
use Rattle.std.specs.Prelude.{MatchOption}
use Rattle.std.proofs.Math.Seq.{take-length}
use Rattle.mk_lines.specs.Lists.{concat, leading, after_leading, trim_end, trailing}
use Rattle.mk_lines.specs.Units.{units, byte_mark}
use Rattle.mk_lines.specs.Units.Mark.{Unmarked}
use Rattle.mk_lines.specs.FirstUnit.{first_unit, after_first_unit}
use Rattle.mk_lines.proofs.on_units.FirstUnitLemmas.{units-first_unit}
use Rattle.mk_lines.specs.Words.{Token, Word, tokens, token_units, before_tokens, is_gap}
use Rattle.mk_lines.proofs.on_units.TokenLemmas.{token_units-tokens}
use Rattle.mk_lines.proofs.on_lists.ListLemmas.{leading-after_leading}
use Rattle.mk_class.specs.ListTests.{until, from}
use Rattle.mk_class.specs.Symbols.{symbol}
use Rattle.mk_class.specs.Symbols.Symbol.{Colon}
use Rattle.mk_class.specs.Assignments.{Assignment, operator_at, operator_length, ends_name, after_blanks, blanks, defined_by, definition, modifier_of, after_units, after_modifier, assignment, assignment_of}
use Rattle.mk_class.specs.TextClasses.{itself}
use Rattle.mk_class.specs.Scans.{IsOperatorAt, is_other}
use Rattle.mk_class.specs.declared.assignment.Flavor.{Flavor}
use Rattle.mk_class.specs.declared.assignment.Modifier.{Modifier}
use Rattle.mk_class.specs.LocatedClasses.{width}
use Rattle.mk_class.specs.LocatedAssignments.{located}
use Rattle.mk_class.specs.declared.assignment.Assignment as offsets
use Rattle.std.specs.Option.{is_some}
use Rattle.mk_lines.proofs.on_units.UnitLemmas.{concat-units}
use Rattle.mk_class.specs.FirstWords.{modifier}
use Rattle.mk_class.proofs.ScanLemmas.{after_leading-same, other-gap, units-unmarked, width-before, width-append, width-units, leading-before, until-before, trim_end-before, take-before, until-none}
use Rattle.mk_class.proofs.on_classes.FirstWordLemmas.{map-itself}

-- a text that begins with a byte that means nothing to units
pub units-at : (s : List ℕ) (b : ℕ) → byte_mark b ≡ Unmarked → 1 ≤ length s → get_or s 0 0 ≡ b → units itself s ≡ (b ∷ []) ∷ units itself (take (length s - 1) (drop 1 s))
units-at [] b m h e = absurd (omega arith)
units-at (x ∷ t) b m h e =
    let n : suc (length t) - 1 ≡ length t = omega arith in
    rw (n, take-length t) (units-unmarked x t (ap byte_mark e ∙ m) ∙ ap (λ z. (z ∷ []) ∷ units itself t) e)

-- ---- operators

-- the operator that a `:` and what follows it make
pub colon_operator : (s : List ℕ) (r : Option (Flavor × Bor (List ℕ))) → 1 ≤ length s → get_or s 0 0 ≡ 58
    → MatchOption r (operator_at (Colon ∷ map (symbol itself) (units itself (take (length s - 1) (drop 1 s)))) ≡ None) (λ found. IsOperatorAt ((58 ∷ []) ∷ units itself (take (length s - 1) (drop 1 s))) found.0 (units itself found.1.now))
    → MatchOption r (operator_at (map (symbol itself) (units itself s)) ≡ None) (λ found. IsOperatorAt (units itself s) found.0 (units itself found.1.now))
colon_operator s r h e k =
    subst (λ (z : List (List ℕ)). MatchOption r (operator_at (map (symbol itself) z) ≡ None) (λ found. IsOperatorAt z found.0 (units itself found.1.now)))
    (sym (units-at s 58 refl h e)) k

-- ---- names

-- one unit more of a name
pub after_name-step : (s r : List ℕ) → (length s == 0) ≡ false → ends_name itself (units itself s) ≡ false → r ≡ after_first_unit itself s
    → from (ends_name itself) (units itself r) ≡ from (ends_name itself) (units itself s)
after_name-step [] r h k e = cc
after_name-step (x ∷ t) r h k e =
    let us = units itself (after_first_unit itself (x ∷ t)) in
    let cut : units itself (x ∷ t) ≡ first_unit itself (x ∷ t) ∷ us = units-first_unit itself x t in
    let goes : ends_name itself (first_unit itself (x ∷ t) ∷ us) ≡ false = ap (ends_name itself) (sym cut) ∙ k in
    ap (λ z. from (ends_name itself) (units itself z)) e
    ∙ sym (ap (from (ends_name itself)) cut ∙ ap (λ c. cond c (first_unit itself (x ∷ t) ∷ us) (from (ends_name itself) us)) goes)

-- ---- definitions

-- the parts of a definition, each of what follows the parts before it
pub definition-parts : (us N R O : List (List ℕ)) → N ≡ after_blanks itself us → R ≡ from (ends_name itself) N → O ≡ after_blanks itself R
    → definition itself us ≡ defined_by itself (operator_at (map (symbol itself) O)) (blanks itself us) (until (ends_name itself) N) (blanks itself R) O
definition-parts us N R O h k l = rw (l, k, h) refl

-- the offsets of an assignment
abbrev made : Flavor → (name_start name_end value_start value_end end : ℕ) → offsets.Assignment
made f a b c d e = record { flavor = f; name = record { start = a; end = b }; value = record { start = c; end = d }; end = e }

made-same : (f : Flavor) (a b c d e A B C D E : ℕ) → a ≡ A → b ≡ B → c ≡ C → d ≡ D → e ≡ E → made f a b c d e ≡ made f A B C D E
made-same f a b c d e A B C D E h i j k l = rw (h, i, j, k, l) refl

-- offsets counted by what follows are the offsets counted by what stands before
made-offsets : (f : Flavor) (len t nm an o op v av wb wn wg wk wc wt wa : ℕ) → t ≤ len
    → t ≡ wb + nm → nm ≡ wn + an → an ≡ wg + o → o ≡ wk + op → op ≡ wc + v → v ≡ wt + av → av ≡ wa
    → made f (len - nm) (len - an) (len - v) (len - av) len
    ≡ made f ((len - t) + wb) (((len - t) + wb) + wn) ((((len - t) + wb) + wn) + (wg + (wk + wc))) (((((len - t) + wb) + wn) + (wg + (wk + wc))) + wt) ((((((len - t) + wb) + wn) + (wg + (wk + wc))) + wt) + wa)
made-offsets f len t nm an o op v av wb wn wg wk wc wt wa h a b c d e g i =
    made-same f _ _ _ _ _ _ _ _ _ _ (omega arith) (omega arith) (omega arith) (omega arith) (omega arith)

-- the offsets of a definition
defined-offsets : (len : ℕ) (f : Flavor) (b n g r : List (List ℕ)) (t nm an o op v av : ℕ) → t ≤ len
    → t ≡ width b + nm → nm ≡ width n + an → an ≡ width g + o → o ≡ width (take (operator_length f) r) + op → op ≡ width (blanks itself (drop (operator_length f) r)) + v
    → v ≡ width (trim_end (is_gap itself) (after_blanks itself (drop (operator_length f) r))) + av → av ≡ width (trailing (is_gap itself) (after_blanks itself (drop (operator_length f) r)))
    → (an ≡ nm → ⊥)
    → Some (made f (len - nm) (len - an) (len - v) (len - av) len) ≡ located (len - t) (defined_by itself (Some f) b n g r)
defined-offsets len f b [] g r t nm an o op v av h a i c d e j k q = absurd (let z : nm ≡ 0 + an = i in q (omega (arith, z)))
defined-offsets len f b (u ∷ n) g r t nm an o op v av h a i c d e j k q =
    let R = drop (operator_length f) r in
    let w : width g + (width (take (operator_length f) r) + width (blanks itself R)) ≡ width (g ++ (take (operator_length f) r ++ blanks itself R)) =
    ap (λ z. width g + z) (sym (width-append (take (operator_length f) r) (blanks itself R))) ∙ sym (width-append g (take (operator_length f) r ++ blanks itself R)) in
    let at = ((len - t) + width b) + width (u ∷ n) in
    let V = width (trim_end (is_gap itself) (after_blanks itself R)) in
    let A = width (trailing (is_gap itself) (after_blanks itself R)) in
    ap Some (
    made-offsets f len t nm an o op v av (width b) (width (u ∷ n)) (width g) (width (take (operator_length f) r)) (width (blanks itself R)) V A h a i c d e j k
    ∙ ap (λ z. made f ((len - t) + width b) at (at + z) ((at + z) + V) (((at + z) + V) + A)) w
    )

-- a definition that is read
pub definition_read : (len : ℕ) (t nm an o op v av : List ℕ) (f : Flavor) → length t ≤ len
    → units itself nm ≡ after_leading (is_gap itself) (units itself t)
    → units itself an ≡ from (ends_name itself) (units itself nm)
    → units itself o ≡ after_leading (is_gap itself) (units itself an)
    → IsOperatorAt (units itself o) f (units itself op)
    → units itself v ≡ after_leading (is_gap itself) (units itself op)
    → units itself av ≡ trailing (is_gap itself) (units itself v)
    → (length an ≡ length nm → ⊥)
    → Some (made f (len - length nm) (len - length an) (len - length v) (len - length av) len) ≡ located (len - length t) (definition itself (units itself t))
definition_read len t nm an o op v av f l h i j k m n q =
    let V : units itself v ≡ after_blanks itself (drop (operator_length f) (units itself o)) = m ∙ ap (after_leading (is_gap itself)) k.1 in
    let A : units itself av ≡ trailing (is_gap itself) (after_blanks itself (drop (operator_length f) (units itself o))) = n ∙ ap (trailing (is_gap itself)) V in
    defined-offsets len f (blanks itself (units itself t)) (until (ends_name itself) (units itself nm)) (blanks itself (units itself an)) (units itself o)
    (length t) (length nm) (length an) (length o) (length op) (length v) (length av) l
    (width-before t nm _ (leading-before (is_gap itself) t nm h))
    (width-before nm an _ (until-before (ends_name itself) nm an i))
    (width-before an o _ (leading-before (is_gap itself) an o j))
    (width-before o op _ (take-before (operator_length f) o op k.1))
    (width-before op v _ (leading-before (is_gap itself) op v m) ∙ ap (λ z. width (blanks itself z) + length v) k.1)
    (width-before v av _ (trim_end-before (is_gap itself) v av n) ∙ ap (λ z. width (trim_end (is_gap itself) z) + length av) V)
    (sym (width-units av) ∙ ap width A) q
    ∙ ap (located (len - length t)) (sym (
    definition-parts (units itself t) (units itself nm) (units itself an) (units itself o) h i j
    ∙ ap (λ z. defined_by itself z (blanks itself (units itself t)) (until (ends_name itself) (units itself nm)) (blanks itself (units itself an)) (units itself o)) k.0
    ))

no_name : (o : Option Flavor) (b n g r : List (List ℕ)) → n ≡ [] → defined_by itself o b n g r ≡ None
no_name None b n g r h = refl
no_name (Some f) b n g r h = ap (λ z. defined_by itself (Some f) b z g r) h

-- there is no definition without a name
pub definition_unnamed : (at : ℕ) (t nm an : List ℕ) → units itself nm ≡ after_leading (is_gap itself) (units itself t) → units itself an ≡ from (ends_name itself) (units itself nm)
    → length an ≡ length nm → None ≡ located at (definition itself (units itself t))
definition_unnamed at t nm an h i q =
    ap (located at) (sym (
    definition-parts (units itself t) (units itself nm) (units itself an) (after_blanks itself (units itself an)) h i refl
    ∙ no_name (operator_at (map (symbol itself) (after_blanks itself (units itself an)))) _ _ _ _ (until-none (ends_name itself) nm an i q)
    ))

-- ---- modifiers

-- whether a unit is no gap
abbrev no_gap : List ℕ → Bool
no_gap u = not (is_gap itself u)

-- the first word of some units, and what follows it
abbrev pub first_word : List (List ℕ) → List (List ℕ)
first_word us = leading no_gap (after_blanks itself us)

abbrev pub after_first_word : List (List ℕ) → List (List ℕ)
after_first_word us = after_leading no_gap (after_blanks itself us)

-- a definition; or, if it is none, what a modifier and what follows it make
abbrev pub or_modified : Option (Assignment ℕ) → Option Modifier → (gaps word : List (List ℕ)) → Option (Assignment ℕ) → Option (Assignment ℕ)
or_modified (Some a) m g w o = Some a
or_modified None None g w o = None
or_modified None (Some m) g w o = after_units itself g (after_modifier itself m w o)

defined-after : (o : Option Flavor) (u : List ℕ) (b n g r : List (List ℕ)) → defined_by itself o (u ∷ b) n g r ≡ after_units itself (u ∷ []) (defined_by itself o b n g r)
defined-after None u b n g r = refl
defined-after (Some f) u b [] g r = refl
defined-after (Some f) u b (x ∷ n) g r = refl

modified-after : (d : Option (Assignment ℕ)) (m : Option Modifier) (u : List ℕ) (g w : List (List ℕ)) (o : Option (Assignment ℕ))
    → after_units itself (u ∷ []) (or_modified d m g w o) ≡ or_modified (after_units itself (u ∷ []) d) m (u ∷ g) w o
modified-after (Some a) m u g w o = refl
modified-after None None u g w o = refl
modified-after None (Some m) u g w None = refl
modified-after None (Some m) u g w (Some a) = refl

after_nothing : (o : Option (Assignment ℕ)) → after_units itself [] o ≡ o
after_nothing None = refl
after_nothing (Some a) = refl

-- the word at the front of units, of which the first is no gap
tokens-word_first : (u : List ℕ) (us : List (List ℕ)) → is_gap itself u ≡ false → tokens itself (u ∷ us) ≡ Word (u ∷ leading no_gap us) ∷ tokens itself (after_leading no_gap us)
tokens-word_first u [] h = ap (λ g. before_tokens g u []) h
tokens-word_first u (v ∷ us) h = ap (λ g. before_tokens g u (tokens itself (v ∷ us))) h ∙ go (is_gap itself v) refl (λ k. tokens-word_first v us k)
  where
    go : (g : Bool) → is_gap itself v ≡ g
        → (is_gap itself v ≡ false → tokens itself (v ∷ us) ≡ Word (v ∷ leading no_gap us) ∷ tokens itself (after_leading no_gap us))
        → before_tokens false u (tokens itself (v ∷ us)) ≡ Word (u ∷ cond (not g) (v ∷ leading no_gap us) []) ∷ tokens itself (cond (not g) (after_leading no_gap us) (v ∷ us))
    go true e ih = rw e refl
    go false e ih = ap (before_tokens false u) (ih e)

-- an assignment is a definition, or else a modifier and an assignment
pub assignment-step : (us : List (List ℕ)) → assignment itself us ≡ or_modified (definition itself us) (modifier_of itself (first_word us)) (blanks itself us) (first_word us) (assignment itself (after_first_word us))
assignment-step [] = refl
assignment-step (u ∷ us) = go (is_gap itself u) refl (assignment-step us)
  where
    of_word : (d : Option (Assignment ℕ)) (m : Option Modifier) (w : List (List ℕ)) (ts : List (Token ℕ))
        → elim d [ Some a ↦ Some a | None ↦ elim m [ Some k ↦ after_modifier itself k w (assignment_of itself ts) | None ↦ None ] ] ≡ or_modified d m [] w (assignment_of itself ts)
    of_word (Some a) m w ts = refl
    of_word None (Some k) w ts = sym (after_nothing (after_modifier itself k w (assignment_of itself ts)))
    of_word None None w ts = refl

    go : (c : Bool) → is_gap itself u ≡ c
        → assignment itself us ≡ or_modified (definition itself us) (modifier_of itself (first_word us)) (blanks itself us) (first_word us) (assignment itself (after_first_word us))
        → assignment itself (u ∷ us) ≡ or_modified (definition itself (u ∷ us)) (modifier_of itself (first_word (u ∷ us))) (blanks itself (u ∷ us)) (first_word (u ∷ us)) (assignment itself (after_first_word (u ∷ us)))
    go true e ih =
        let N = after_blanks itself us in
        let R = from (ends_name itself) N in
        rw e (
        ap (after_units itself (u ∷ [])) ih
        ∙ (modified-after (definition itself us) (modifier_of itself (first_word us)) u (blanks itself us) (first_word us) (assignment itself (after_first_word us))
        ∙ ap (λ d. or_modified d (modifier_of itself (first_word us)) (u ∷ blanks itself us) (first_word us) (assignment itself (after_first_word us)))
        (sym (defined-after (operator_at (map (symbol itself) (after_blanks itself R))) u (blanks itself us) (until (ends_name itself) N) (blanks itself R) (after_blanks itself R))))
        )
    go false e ih =
        let W = u ∷ leading no_gap us in
        let ts = tokens itself (after_leading no_gap us) in
        let whole : W ++ token_units ts ≡ u ∷ us = ap (λ z. W ++ z) (token_units-tokens itself (after_leading no_gap us)) ∙ ap (λ z. u ∷ z) (leading-after_leading no_gap us) in
        let goal_of : or_modified (definition itself (u ∷ us)) (modifier_of itself W) [] W (assignment_of itself ts)
        ≡ or_modified (definition itself (u ∷ us)) (modifier_of itself (first_word (u ∷ us))) (blanks itself (u ∷ us)) (first_word (u ∷ us)) (assignment itself (after_first_word (u ∷ us))) = rw (e, e) refl in
        ap (assignment_of itself) (tokens-word_first u us e)
        ∙ (ap (λ z. elim (definition itself z) [ Some a ↦ Some a | None ↦ elim (modifier_of itself W) [ Some k ↦ after_modifier itself k W (assignment_of itself ts) | None ↦ None ] ]) whole
        ∙ (of_word (definition itself (u ∷ us)) (modifier_of itself W) W ts ∙ goal_of))

located-none : (at : ℕ) (d : Option (Assignment ℕ)) (r : Option offsets.Assignment) → r ≡ located at d → is_some r ≡ false → d ≡ None
located-none at None r h k = refl
located-none at (Some a) r h k = absurd (let e : is_some r ≡ true = ap is_some h in cc)

-- the assignment is a definition that was read
pub definition-first : (at : ℕ) (us : List (List ℕ)) (r : Option offsets.Assignment) → r ≡ located at (definition itself us) → is_some r ≡ true → r ≡ located at (assignment itself us)
definition-first at us r h k = h ∙ go (definition itself us) refl (ap is_some (sym h) ∙ k)
  where
    go : (d : Option (Assignment ℕ)) → definition itself us ≡ d → is_some (located at d) ≡ true → located at d ≡ located at (assignment itself us)
    go None e z = cc
    go (Some a) e z = ap (located at) (sym (assignment-step us ∙ ap (λ d. or_modified d (modifier_of itself (first_word us)) (blanks itself us) (first_word us) (assignment itself (after_first_word us))) e))

-- the modifier that the units of a word are
modifier-word : (s : List ℕ) (w : List (List ℕ)) → units itself s ≡ w → modifier_of itself w ≡ modifier s
modifier-word s w h = ap modifier (map-itself (concat w) ∙ (ap concat (sym h) ∙ concat-units itself s))

-- the offset of what stands before the name does not matter to what follows it
located-after : (at : ℕ) (m : Modifier) (g w : List (List ℕ)) (o : Option (Assignment ℕ)) → located at (after_units itself g (after_modifier itself m w o)) ≡ located ((at + width g) + width w) o
located-after at m g w None = refl
located-after at m g w (Some a) =
    let n : at + width (g ++ (w ++ a.before)) ≡ ((at + width g) + width w) + width a.before =
    let e : width (g ++ (w ++ a.before)) ≡ width g + (width w + width a.before) = width-append g (w ++ a.before) ∙ ap (λ z. width g + z) (width-append w a.before) in
    omega (arith, e) in
    ap (λ name. Some (made a.flavor name (name + width a.name) ((name + width a.name) + width a.operator) (((name + width a.name) + width a.operator) + width a.value) ((((name + width a.name) + width a.operator) + width a.value) + width a.after))) n

-- what is read of one word: the word, and the text after it
after_word-is : (rest word after : List ℕ) → units itself word ≡ after_leading (is_gap itself) (units itself rest) → units itself after ≡ after_leading (is_other (32 ∷ 9 ∷ [])) (units itself word)
    → units itself after ≡ after_first_word (units itself rest)
after_word-is rest word after h k = k ∙ (after_leading-same (is_other (32 ∷ 9 ∷ [])) no_gap other-gap (units itself word) ∙ ap (after_leading no_gap) h)

word-before : (rest word after : List ℕ) → units itself word ≡ after_leading (is_gap itself) (units itself rest) → units itself after ≡ after_leading (is_other (32 ∷ 9 ∷ [])) (units itself word)
    → units itself word ≡ first_word (units itself rest) ++ units itself after
word-before rest word after h k =
    h ∙ (sym (leading-after_leading no_gap (after_blanks itself (units itself rest))) ∙ ap (λ z. first_word (units itself rest) ++ z) (sym (after_word-is rest word after h k)))

-- there is no assignment where the first word is no modifier
pub assignment-none : (at : ℕ) (rest word after w : List ℕ) (r : Option offsets.Assignment) → units itself word ≡ after_leading (is_gap itself) (units itself rest)
    → units itself after ≡ after_leading (is_other (32 ∷ 9 ∷ [])) (units itself word) → ((front : List (List ℕ)) → units itself word ≡ front ++ units itself after → units itself w ≡ front)
    → r ≡ located at (definition itself (units itself rest)) → is_some r ≡ false → modifier w ≡ None → None ≡ located at (assignment itself (units itself rest))
assignment-none at rest word after w r h k f d z m =
    let us = units itself rest in
    ap (located at) (sym (
    assignment-step us
    ∙ (ap (λ e. or_modified e (modifier_of itself (first_word us)) (blanks itself us) (first_word us) (assignment itself (after_first_word us))) (located-none at (definition itself us) r d z)
    ∙ ap (λ e. or_modified None e (blanks itself us) (first_word us) (assignment itself (after_first_word us))) (modifier-word w (first_word us) (f (first_word us) (word-before rest word after h k)) ∙ m))
    ))

-- the step over one modifier
pub assignment-next : (len : ℕ) (rest word after w : List ℕ) (r : Option offsets.Assignment) (m : Modifier) → length rest ≤ len → units itself word ≡ after_leading (is_gap itself) (units itself rest)
    → units itself after ≡ after_leading (is_other (32 ∷ 9 ∷ [])) (units itself word) → ((front : List (List ℕ)) → units itself word ≡ front ++ units itself after → units itself w ≡ front)
    → r ≡ located (len - length rest) (definition itself (units itself rest)) → is_some r ≡ false → modifier w ≡ Some m
    → located (len - length after) (assignment itself (units itself after)) ≡ located (len - length rest) (assignment itself (units itself rest))
assignment-next len rest word after w r m l h k f d z e =
    let us = units itself rest in
    let at = len - length rest in
    let step : assignment itself us ≡ after_units itself (blanks itself us) (after_modifier itself m (first_word us) (assignment itself (after_first_word us))) =
    assignment-step us
    ∙ (ap (λ i. or_modified i (modifier_of itself (first_word us)) (blanks itself us) (first_word us) (assignment itself (after_first_word us))) (located-none at (definition itself us) r d z)
    ∙ ap (λ i. or_modified None i (blanks itself us) (first_word us) (assignment itself (after_first_word us))) (modifier-word w (first_word us) (f (first_word us) (word-before rest word after h k)) ∙ e)) in
    let a : length rest ≡ width (blanks itself us) + length word = width-before rest word (blanks itself us) (leading-before (is_gap itself) rest word h) in
    let b : length word ≡ width (first_word us) + length after = width-before word after (first_word us) (word-before rest word after h k) in
    let n : len - length after ≡ (at + width (blanks itself us)) + width (first_word us) = omega (arith, a, b) in
    sym (
    ap (located at) step
    ∙ (located-after at m (blanks itself us) (first_word us) (assignment itself (after_first_word us))
    ∙ (ap (λ i. located i (assignment itself (after_first_word us))) (sym n) ∙ ap (λ i. located (len - length after) (assignment itself i)) (sym (after_word-is rest word after h k))))
    )
