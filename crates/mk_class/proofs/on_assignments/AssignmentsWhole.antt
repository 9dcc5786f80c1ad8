-- Laws of assignments: the parts of an assignment are the cut text, and its modifiers, name and flavor do not depend on its
-- value.
use Rattle.std.proofs.Common.{◌≡◌, refl, sym, ap, ◌∙◌, subst, ℕ, List, [], ◌∷◌, ◌++◌, map, Bool, true, false, not, Option, Some, None, append_assoc}
use Rattle.std.proofs.lemmas.List.{append-nil}
use Rattle.mk_lines.specs.Lists.{concat, leading, after_leading, trim_end, trailing, Each, FirstFails, LastFails}
use Rattle.mk_lines.proofs.on_lists.ListLemmas.{leading-after_leading, leading-each, after_leading-first_fails, leading-append_all, after_leading-append_all, trim_end-trailing, trailing-each, trim_end-last_fails, trim_end-append, trailing-append}
use Rattle.mk_lines.specs.Units.{units, is_closed}
use Rattle.mk_lines.proofs.on_units.UnitLemmas.{EndsPlain, EndsPlain-append, EndsPlain-closed, units-replaced}
use Rattle.mk_lines.specs.Words.{Token, Gap, Word, tokens, token_units, is_gap}
use Rattle.mk_lines.proofs.on_units.TokenLemmas.{token_units-tokens}
use Rattle.mk_class.specs.ListTests.{until, from}
use Rattle.mk_class.proofs.on_symbols.ListLemmas.{until-from}
use Rattle.mk_class.specs.Symbols.{symbol, is_equals}
use Rattle.mk_class.proofs.on_symbols.SymbolLemmas.{equals-plain, gap-plain}
use Rattle.mk_class.specs.Assignments.{Assignment, after_blanks, blanks, modifier_of, assignment}
use Rattle.mk_class.specs.AssignmentsAtEquals.{Front, flavor_before_equals, ends_name_before_equals, front_by, definition_front, front_after_units, front_after_modifier, front_of, with_value, is_no_equals, assignment_from}
use Rattle.mk_class.proofs.on_assignments.AssignmentEqualsLemmas.{assignment-equals, assignment-at_equals}
use Rattle.mk_class.specs.declared.assignment.Flavor.{Flavor}
use Rattle.mk_class.specs.declared.assignment.Modifier.{Modifier}

-- the parts of an assignment, which follow one another
abbrev pub assignment_units : {A : Type 0} → Assignment A → List (List A)
assignment_units a = a.before ++ (a.name ++ (a.operator ++ (a.value ++ a.after)))

module _ {A : Type 0} (byte : A → ℕ) where
  -- ---- the parts of a front

  -- the parts of a front are these units
  abbrev IsWhole : List (List A) → Option (Front A) → Type 0
  IsWhole us None = Unit {0}
  IsWhole us (Some f) = f.before ++ (f.name ++ f.operator) ≡ us

  whole-front_by : (o : Option Flavor) (b n r us : List (List A)) → b ++ (n ++ r) ≡ us → IsWhole us (front_by byte o b n r)
  whole-front_by None b n r us h = tt
  whole-front_by (Some f) b [] r us h = tt
  whole-front_by (Some f) b (u ∷ n) r us h = h

  whole-definition : (us : List (List A)) → IsWhole us (definition_front byte us)
  whole-definition us =
      let N = after_blanks byte us in
      let F = from (ends_name_before_equals byte) N in
      whole-front_by (flavor_before_equals (map (symbol byte) (after_blanks byte F))) (blanks byte us) (until (ends_name_before_equals byte) N) F us
      (ap (λ z. blanks byte us ++ z) (until-from (ends_name_before_equals byte) N) ∙ leading-after_leading (is_gap byte) us)

  whole-after_units : (p us : List (List A)) (o : Option (Front A)) → IsWhole us o → IsWhole (p ++ us) (front_after_units byte p o)
  whole-after_units p us None h = tt
  whole-after_units p us (Some f) h = append_assoc p f.before (f.name ++ f.operator) ∙ ap (λ z. p ++ z) h

  whole-after_modifier : (m : Modifier) (w us : List (List A)) (o : Option (Front A)) → IsWhole us o → IsWhole (w ++ us) (front_after_modifier byte m w o)
  whole-after_modifier m w us None h = tt
  whole-after_modifier m w us (Some f) h = append_assoc w f.before (f.name ++ f.operator) ∙ ap (λ z. w ++ z) h

  whole-tokens : (ts : List (Token A)) → IsWhole (token_units ts) (front_of byte ts)
  whole-tokens [] = tt
  whole-tokens (Gap u ∷ ts) = whole-after_units (u ∷ []) (token_units ts) (front_of byte ts) (whole-tokens ts)
  whole-tokens (Word w ∷ ts) = go (definition_front byte (w ++ token_units ts)) (modifier_of byte w) (whole-definition (w ++ token_units ts)) (whole-tokens ts)
    where
      go : (d : Option (Front A)) (m : Option Modifier) → IsWhole (w ++ token_units ts) d → IsWhole (token_units ts) (front_of byte ts)
          → IsWhole (w ++ token_units ts) (elim d [ Some f ↦ Some f | None ↦ elim m [ Some m ↦ front_after_modifier byte m w (front_of byte ts) | None ↦ None ] ])
      go (Some f) m h k = h
      go None (Some m) h k = whole-after_modifier m w (token_units ts) (front_of byte ts) k
      go None None h k = tt

  -- the parts of a front are the units before the `=`
  front-whole : (b : List (List A)) (f : Front A) → front_of byte (tokens byte b) ≡ Some f → f.before ++ (f.name ++ f.operator) ≡ b
  front-whole b f h = let w : IsWhole (token_units (tokens byte b)) (Some f) = subst (IsWhole (token_units (tokens byte b))) h (whole-tokens (tokens byte b)) in w ∙ token_units-tokens byte b

  -- ---- the value

  -- the units of a value and the blanks after it: the value begins and ends with no blank, and no blank follows an empty value
  pub record AreValue (value after : List (List A)) : Type 0 where
    pub begins : FirstFails (is_gap byte) value
    pub ends : LastFails (is_gap byte) value
    pub blanks_after : Each (is_gap byte) after
    pub empty : value ≡ [] → after ≡ []

  AreValue-first : (v g : List (List A)) → AreValue v g → FirstFails (is_gap byte) (v ++ g)
  AreValue-first [] g h = subst (FirstFails (is_gap byte)) (sym (h.empty refl)) tt
  AreValue-first (u ∷ v) g h = h.begins

  -- what an assignment is: its parts are the cut text, and its value may be any that begins and ends with no blank
  pub record IsAssignment (us : List (List A)) (a : Assignment A) : Type 0 where
    pub whole : assignment_units a ≡ us
    pub operator_ends : EndsPlain byte a.operator
    pub are_value : AreValue a.value a.after
    pub again : (value after : List (List A)) → AreValue value after → assignment byte (a.before ++ (a.name ++ (a.operator ++ (value ++ after)))) ≡ Some (record a { value = value; after = after })

  -- the assignment of a front, a `=` and what follows it
  made : Front A → (equals : List A) → (rest : List (List A)) → Assignment A
  made f e r = record {
    modifiers = f.modifiers;
    flavor = f.flavor;
    before = f.before;
    name = f.name;
    operator = f.operator ++ (e ∷ blanks byte r);
    value = trim_end (is_gap byte) (after_blanks byte r);
    after = trailing (is_gap byte) (after_blanks byte r);
  }

  first-trimmed : (v g r : List (List A)) → v ++ g ≡ r → FirstFails (is_gap byte) r → FirstFails (is_gap byte) v
  first-trimmed [] g r h k = tt
  first-trimmed (u ∷ v) g r h k = let m : FirstFails (is_gap byte) ((u ∷ v) ++ g) = subst (FirstFails (is_gap byte)) (sym h) k in m

  no_blanks : (g : List (List A)) → Each (is_gap byte) g → FirstFails (is_gap byte) g → g ≡ []
  no_blanks [] h k = refl
  no_blanks (u ∷ g) h k = absurd (let m : true ≡ false = sym h.0 ∙ k in cc)

  made-are_value : (r : List (List A)) → AreValue (trim_end (is_gap byte) (after_blanks byte r)) (trailing (is_gap byte) (after_blanks byte r))
  made-are_value r =
      let R = after_blanks byte r in
      let first : FirstFails (is_gap byte) R = after_leading-first_fails (is_gap byte) r in
      let joined : trim_end (is_gap byte) R ++ trailing (is_gap byte) R ≡ R = trim_end-trailing (is_gap byte) R in
      record {
        begins = first-trimmed (trim_end (is_gap byte) R) (trailing (is_gap byte) R) R joined first;
        ends = trim_end-last_fails (is_gap byte) R;
        blanks_after = trailing-each (is_gap byte) R;
        empty = λ e. no_blanks (trailing (is_gap byte) R) (trailing-each (is_gap byte) R) (subst (FirstFails (is_gap byte)) (sym (ap (λ z. z ++ trailing (is_gap byte) R) (sym e) ∙ joined)) first);
      }

  made-again : (f : Front A) (b : List (List A)) (e : List A) (r : List (List A)) → front_of byte (tokens byte b) ≡ Some f → f.before ++ (f.name ++ f.operator) ≡ b
      → Each (is_no_equals byte) b → is_equals byte e ≡ true → (v g : List (List A)) → AreValue v g
      → assignment byte ((made f e r).before ++ ((made f e r).name ++ ((made f e r).operator ++ (v ++ g)))) ≡ Some (record (made f e r) { value = v; after = g })
  unfolding made
  made-again f b e r h w n k v g p =
      let G = blanks byte r in
      let each : Each (is_gap byte) G = leading-each (is_gap byte) r in
      let first : FirstFails (is_gap byte) (v ++ g) = AreValue-first v g p in
      let s : f.before ++ (f.name ++ ((f.operator ++ (e ∷ G)) ++ (v ++ g))) ≡ (f.before ++ (f.name ++ f.operator)) ++ e ∷ (G ++ (v ++ g)) = simp append_assoc in
      rw (
        s,
        w,
        assignment-equals byte b e (G ++ (v ++ g)) n k,
        h,
        leading-append_all (is_gap byte) G (v ++ g) each first,
        after_leading-append_all (is_gap byte) G (v ++ g) each first,
        trim_end-append (is_gap byte) v g p.ends p.blanks_after,
        trailing-append (is_gap byte) v g p.ends p.blanks_after,
      ) refl

  gaps-plain : (u : List A) (g : List (List A)) → EndsPlain byte (u ∷ []) → Each (is_gap byte) g → EndsPlain byte (u ∷ g)
  gaps-plain u [] h k = h
  gaps-plain u (v ∷ g) h k = gaps-plain v g (gap-plain byte v k.0) k.1

  made-is_assignment : (f : Front A) (b : List (List A)) (e : List A) (r : List (List A)) → front_of byte (tokens byte b) ≡ Some f → Each (is_no_equals byte) b → is_equals byte e ≡ true
      → IsAssignment (b ++ e ∷ r) (made f e r)
  unfolding made
  made-is_assignment f b e r h n k =
      let w = front-whole b f h in
      let R = after_blanks byte r in
      let joined : f.before ++ (f.name ++ ((f.operator ++ (e ∷ blanks byte r)) ++ (trim_end (is_gap byte) R ++ trailing (is_gap byte) R))) ≡ (f.before ++ (f.name ++ f.operator)) ++ e ∷ (blanks byte r ++ (trim_end (is_gap byte) R ++ trailing (is_gap byte) R)) = simp append_assoc in
      let tail : blanks byte r ++ (trim_end (is_gap byte) R ++ trailing (is_gap byte) R) ≡ r = ap (λ z. blanks byte r ++ z) (trim_end-trailing (is_gap byte) R) ∙ leading-after_leading (is_gap byte) r in
      record {
        whole = joined ∙ (ap (λ z. z ++ e ∷ (blanks byte r ++ (trim_end (is_gap byte) R ++ trailing (is_gap byte) R))) w ∙ ap (λ z. b ++ e ∷ z) tail);
        operator_ends = EndsPlain-append byte f.operator e (blanks byte r) (gaps-plain e (blanks byte r) (equals-plain byte e k) (leading-each (is_gap byte) r));
        are_value = made-are_value r;
        again = λ v g p. made-again f b e r h w n k v g p;
      }

  -- what an assignment is made of: a front, the first `=` and the units after it
  record MadeOf (us : List (List A)) (a : Assignment A) : Type 0 where
    front : Front A
    before : List (List A)
    equals : List A
    rest : List (List A)
    front_is : front_of byte (tokens byte before) ≡ Some front
    no_equals : Each (is_no_equals byte) before
    equals_is : is_equals byte equals ≡ true
    whole : before ++ equals ∷ rest ≡ us
    made_is : made front equals rest ≡ a

  made-of : (us : List (List A)) (a : Assignment A) → assignment byte us ≡ Some a → MadeOf us a
  unfolding made
  made-of us a h =
      at (leading (is_no_equals byte) us) (after_leading (is_no_equals byte) us) (sym (assignment-at_equals byte us) ∙ h)
      (leading-after_leading (is_no_equals byte) us) (leading-each (is_no_equals byte) us) (after_leading-first_fails (is_no_equals byte) us)
    where
      is : (c : Bool) → not c ≡ false → c ≡ true
      is true h = refl
      is false h = cc

      with_front : (o : Option (Front A)) (b : List (List A)) (e : List A) (r : List (List A)) → front_of byte (tokens byte b) ≡ o → with_value byte o e r ≡ Some a → b ++ e ∷ r ≡ us
          → Each (is_no_equals byte) b → is_equals byte e ≡ true → MadeOf us a
      with_front None b e r h k w n s = absurd (cc)
      with_front (Some f) b e r h k w n s = record { front = f; before = b; equals = e; rest = r; front_is = h; no_equals = n; equals_is = s; whole = w; made_is = cc }

      at : (b r : List (List A)) → assignment_from byte b r ≡ Some a → b ++ r ≡ us → Each (is_no_equals byte) b → FirstFails (is_no_equals byte) r → MadeOf us a
      at b [] k w n s = absurd (cc)
      at b (e ∷ r) k w n s = with_front (front_of byte (tokens byte b)) b e r refl k w n (is (is_equals byte e) s)

  -- each assignment has the parts that `IsAssignment` asks for
  pub assignment-is : (us : List (List A)) (a : Assignment A) → assignment byte us ≡ Some a → IsAssignment us a
  assignment-is us a h =
      let m = made-of us a h in
      subst (λ (z : Assignment A). IsAssignment us z) m.made_is
      (subst (λ (z : List (List A)). IsAssignment z (made m.front m.equals m.rest)) m.whole (made-is_assignment m.front m.before m.equals m.rest m.front_is m.no_equals m.equals_is))

  -- ---- the blanks before the value

  -- The units before the value of an assignment: those before its first `=`, the `=`, and the blanks after it. With any blanks
  -- and any value after the `=`, it is an assignment again, of the same name.
  pub record HasEquals (a : Assignment A) : Type 0 where
    pub front : List (List A)
    pub equals : List A
    pub gaps : List (List A)
    pub equals_is : is_equals byte equals ≡ true
    pub are_gaps : Each (is_gap byte) gaps
    pub before_is : a.before ++ (a.name ++ a.operator) ≡ front ++ equals ∷ gaps
    pub again : (g v w : List (List A)) → Each (is_gap byte) g → AreValue v w
        → (operator : List (List A)) × (assignment byte (front ++ equals ∷ (g ++ (v ++ w))) ≡ Some (record a { operator = operator; value = v; after = w }))

  made-regapped : (f : Front A) (b : List (List A)) (e : List A) (r g v w : List (List A)) → front_of byte (tokens byte b) ≡ Some f → Each (is_no_equals byte) b → is_equals byte e ≡ true
      → Each (is_gap byte) g → AreValue v w
      → assignment byte (b ++ e ∷ (g ++ (v ++ w))) ≡ Some (record (made f e r) { operator = f.operator ++ (e ∷ g); value = v; after = w })
  unfolding made
  made-regapped f b e r g v w h n k j p =
      let first : FirstFails (is_gap byte) (v ++ w) = AreValue-first v w p in
      rw (
        assignment-equals byte b e (g ++ (v ++ w)) n k,
        h,
        leading-append_all (is_gap byte) g (v ++ w) j first,
        after_leading-append_all (is_gap byte) g (v ++ w) j first,
        trim_end-append (is_gap byte) v w p.ends p.blanks_after,
        trailing-append (is_gap byte) v w p.ends p.blanks_after,
      ) refl

  made-has_equals : (f : Front A) (b : List (List A)) (e : List A) (r : List (List A)) → front_of byte (tokens byte b) ≡ Some f → Each (is_no_equals byte) b → is_equals byte e ≡ true
      → HasEquals (made f e r)
  unfolding made
  made-has_equals f b e r h n k =
      let G = blanks byte r in
      let joined : f.before ++ (f.name ++ (f.operator ++ (e ∷ G))) ≡ (f.before ++ (f.name ++ f.operator)) ++ e ∷ G = simp append_assoc in
      record {
        front = b;
        equals = e;
        gaps = G;
        equals_is = k;
        are_gaps = leading-each (is_gap byte) r;
        before_is = joined ∙ ap (λ z. z ++ e ∷ G) (front-whole b f h);
        again = λ g v w j p. (f.operator ++ (e ∷ g), made-regapped f b e r g v w h n k j p);
      }

  -- each assignment has the units that `HasEquals` asks for
  pub assignment-has_equals : (us : List (List A)) (a : Assignment A) → assignment byte us ≡ Some a → HasEquals a
  assignment-has_equals us a h =
      let m = made-of us a h in
      subst (λ (z : Assignment A). HasEquals z) m.made_is (made-has_equals m.front m.before m.equals m.rest m.front_is m.no_equals m.equals_is)

  -- ---- the text

  -- the units before the value of an assignment end a closed text
  pub operator-closed : (t : List A) (a : Assignment A) (rest : List (List A)) → EndsPlain byte a.operator → units byte t ≡ (a.before ++ (a.name ++ a.operator)) ++ rest
      → is_closed byte (concat (a.before ++ (a.name ++ a.operator))) ≡ true
  operator-closed t a rest p h = EndsPlain-closed byte t (a.before ++ (a.name ++ a.operator)) rest (ends a.before (a.name ++ a.operator) (ends a.name a.operator p)) h
    where
      ends : (us vs : List (List A)) → EndsPlain byte vs → EndsPlain byte (us ++ vs)
      ends us [] h = absurd h
      ends us (v ∷ vs) h = EndsPlain-append byte us v vs h

  -- the units of a text that begins with an assignment, with the value replaced by a closed text
  pub units-value_replaced : (t v : List A) (us rest : List (List A)) (a : Assignment A) → IsAssignment us a → units byte t ≡ us ++ rest → is_closed byte v ≡ true
      → units byte (concat (a.before ++ (a.name ++ a.operator)) ++ (v ++ concat (a.after ++ rest))) ≡ (a.before ++ (a.name ++ a.operator)) ++ (units byte v ++ (a.after ++ rest))
  units-value_replaced t v us rest a p h c =
      let B = a.before ++ (a.name ++ a.operator) in
      let s : (a.before ++ (a.name ++ (a.operator ++ (a.value ++ a.after)))) ++ rest ≡ (a.before ++ (a.name ++ a.operator)) ++ (a.value ++ (a.after ++ rest)) = simp append_assoc in
      let e : units byte t ≡ B ++ (a.value ++ (a.after ++ rest)) = h ∙ (ap (λ z. z ++ rest) (sym p.whole) ∙ s) in
      units-replaced byte t v B a.value (a.after ++ rest) (operator-closed t a (a.value ++ (a.after ++ rest)) p.operator_ends e) e c

  -- a text that is an assignment, with the value replaced by a closed text that begins and ends with no blank
  pub assignment-value_replaced : (t v : List A) (a : Assignment A) → assignment byte (units byte t) ≡ Some a → is_closed byte v ≡ true → AreValue (units byte v) a.after
      → assignment byte (units byte (concat (a.before ++ (a.name ++ a.operator)) ++ (v ++ concat a.after))) ≡ Some (record a { value = units byte v })
  assignment-value_replaced t v a h c n =
      let p = assignment-is (units byte t) a h in
      let none : units byte t ≡ units byte t ++ [] = sym (append-nil (units byte t)) in
      let e : units byte (concat (a.before ++ (a.name ++ a.operator)) ++ (v ++ concat a.after)) ≡ (a.before ++ (a.name ++ a.operator)) ++ (units byte v ++ a.after) =
      ap (λ z. units byte (concat (a.before ++ (a.name ++ a.operator)) ++ (v ++ concat z))) (sym (append-nil a.after))
      ∙ (units-value_replaced t v (units byte t) [] a p none c ∙ ap (λ z. (a.before ++ (a.name ++ a.operator)) ++ (units byte v ++ z)) (append-nil a.after)) in
      let s : (a.before ++ (a.name ++ a.operator)) ++ (units byte v ++ a.after) ≡ a.before ++ (a.name ++ (a.operator ++ (units byte v ++ a.after))) = simp append_assoc in
      ap (assignment byte) (e ∙ s) ∙ p.again (units byte v) a.after n
