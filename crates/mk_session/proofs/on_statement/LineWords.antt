-- Words that stand in a line, in its bytes: those of an assignment's line, and those of a rule's.
use Rattle.std.proofs.Common.{◌≡◌, refl, sym, ap, ◌∙◌, subst, arith, ℕ, ◌<◌, List, [], ◌∷◌, ◌++◌, map, true, append_assoc, Option, inl, inr}
use Rattle.std.proofs.lemmas.List.{append-nil, append_cancel_left}
use Rattle.std.proofs.lemmas.Slice.Eq.{bytes_eq-Decides}
use Rattle.std.specs.Prelude.{◌⊎◌, codes, All, Contains}
use Rattle.mk_lines.specs.Lists.{concat}
use Rattle.mk_lines.proofs.on_lists.ListLemmas.{concat-append}
use Rattle.mk_lines.specs.PhysicalLines.{line_end, line_end_bytes, without_line_end}
use Rattle.mk_lines.specs.Cells.{Cell, Byte, joined_byte, raw_text}
use Rattle.mk_lines.proofs.on_cells.CellLemmas.{raw_text-append}
use Rattle.mk_lines.proofs.on_units.UnitLemmas.{EndsPlain-split}
use Rattle.mk_lines.specs.Words.{tokens}
use Rattle.mk_lines.proofs.on_units.TokenLemmas.{token_units-tokens, tokens-are_tokens}
use Rattle.mk_class.specs.Symbols.{symbol, is_equals}
use Rattle.mk_class.specs.Symbols.Symbol.{Colon, Equals, Ampersand}
use Rattle.mk_class.proofs.on_symbols.SymbolLemmas.{symbol-unit, equals_symbol-is}
use Rattle.mk_class.specs.Texts.{unit_text, is_one_of, word_texts}
use Rattle.mk_class.specs.Assignments.{Assignment, before_value}
use Rattle.mk_class.proofs.on_assignments.AssignmentsWhole.{IsAssignment, assignment-is, assignment_units, assignment-has_equals, AreValue}
use Rattle.mk_class.specs.Headers
use Rattle.mk_class.specs.HeaderFits.{separator_symbols}
use Rattle.mk_class.specs.declared.rule.Separator.{Separator}
use Rattle.mk_class.specs.declared.rule.Separator.TheVariants.{SingleColon, DoubleColon, GroupedColon, GroupedDoubleColon}
use Rattle.mk_class.specs.Classes.{Class}
use Rattle.mk_class.specs.Classes.Class.{Endef, Body, Recipe, Opaque, Blank, Comment, Assign, DefineHead, If, Else, Endif, Directive, TargetAssign, Rough, Header}
use Rattle.mk_class.specs.Contexts.{Context}
use Rattle.mk_class.specs.ClassTable.{class_of}
use Rattle.mk_edit_language.specs.Addresses.{assigns, is_rule_for}
use Rattle.mk_edit_language.proofs.on_lines.HeaderParts.{one_byte, colon-is}
use Rattle.mk_edit_language.proofs.on_lines.HeaderChanges.{middle_units, header-cells, header-here}
use Rattle.mk_edit_parts.proofs.on_values.ValueCells.{assign-parts}
use Rattle.mk_session.specs.Statement.{Has, Names}
use Rattle.mk_session.proofs.on_statement.CellTexts.{has-left, has-right, has-front, has-in, all-solid, solid-word, raw-units, line-bytes}
use Rattle.mk_session.proofs.on_statement.WordEdges.{EndsBlank, BeginsBehind, behind-colon, behind-ampersand, begins-left, AreEdged, edged-left, edged-right, cells-edged, name-edges, token-cut}

-- ---- a word before a sign

-- with a text after both
pub names-left : (w : List ℕ) (s : ℕ) (a b : List ℕ) → Names w s a → Names w s (a ++ b)
names-left w s a b h plain =
    let n = h plain in
    let r = n.3 ∷ n.1 in
    (n.0, n.1 ++ b, n.2, n.3, ap (λ z. z ++ b) n.4 ∙ (append_assoc n.0 (n.2 ∷ (w ++ r)) b ∙ ap (λ z. n.0 ++ n.2 ∷ z) (append_assoc w r b)), n.5, n.6, has-left (s ∷ []) r b n.7)

-- a text that is empty or ends in a blank, the word, and a text that begins with what may follow it and has the sign
pub names-parts : (w : List ℕ) (s : ℕ) (a r : List ℕ) → EndsBlank a → BeginsBehind r → Has (s ∷ []) r → Names w s (a ++ (w ++ r))
names-parts w s a r e b h plain = go e
  where
    go : EndsBlank a
        → (f t : List ℕ) × (y x : ℕ) × (10 ∷ (a ++ (w ++ r)) ≡ f ++ y ∷ (w ++ x ∷ t)) × (y < 33) × Contains (9 ∷ 92 ∷ codes " !&+:=?") x × Has (s ∷ []) (x ∷ t)
    go (inl k) = ([], b.1, 10, b.0, ap (λ z. 10 ∷ (z ++ (w ++ r))) k ∙ ap (λ z. 10 ∷ (w ++ z)) b.2, omega arith, b.3, subst (Has (s ∷ [])) b.2 h)
    go (inr k) = (
      10 ∷ k.0,
      b.1,
      k.1,
      b.0,
      ap (λ z. 10 ∷ (z ++ (w ++ r))) k.2 ∙ (ap (λ z. 10 ∷ z) (append_assoc k.0 (k.1 ∷ []) (w ++ r)) ∙ ap (λ z. 10 ∷ (k.0 ++ k.1 ∷ (w ++ z))) b.2),
      k.3,
      b.3,
      subst (Has (s ∷ [])) b.2 h,
    )

pub names-in : (w : List ℕ) (s : ℕ) (t u : List ℕ) → t ≡ u → Names w s u → Names w s t
names-in w s t u e h = subst (Names w s) (sym e) h

-- a line has a word that it names
pub names-has : (w : List ℕ) (s : ℕ) (l : List ℕ) → All (λ b. 32 < b) w → Names w s l → Has w l
names-has w s l plain h = let n = h plain in go n.0 n.2 (n.3 ∷ n.1) n.4
  where
    go : (a : List ℕ) (y : ℕ) (r : List ℕ) → 10 ∷ l ≡ a ++ y ∷ (w ++ r) → Has w l
    go [] y r e = ([], r, cc)
    go (c ∷ a) y r e = let rest : l ≡ a ++ y ∷ (w ++ r) = cc in (a ++ y ∷ [], r, rest ∙ sym (append_assoc a (y ∷ []) (w ++ r)))

-- ---- the line of an assignment

-- the last of some elements
last-same : {A : Type 0} (a b : List A) (x y : A) → a ++ x ∷ [] ≡ b ++ y ∷ [] → (a ≡ b) × (x ≡ y)
last-same {A = A} [] [] x y e = (refl, cc)
last-same {A = A} [] (c ∷ b) x y e = absurd (no b cc)
  where
    no : (b : List A) → [] ≡ b ++ y ∷ [] → ⊥
    no [] h = cc
    no (z ∷ b) h = cc
last-same {A = A} (c ∷ a) [] x y e = absurd (no a cc)
  where
    no : (a : List A) → a ++ x ∷ [] ≡ [] → ⊥
    no [] h = cc
    no (z ∷ a) h = cc
last-same {A = A} (c ∷ a) (d ∷ b) x y e =
    let head : c ≡ d = cc in
    let rest : a ++ x ∷ [] ≡ b ++ y ∷ [] = cc in
    let k = last-same a b x y rest in
    (ap (λ z. c ∷ z) k.0 ∙ ap (λ z. z ∷ b) head, k.1)

-- a unit `=`
equals-is : (u : List Cell) → is_equals joined_byte u ≡ true → u ≡ Byte 61 ∷ []
equals-is u h =
    let s = symbol-unit joined_byte u Equals (λ x. cc) (equals_symbol-is (symbol joined_byte u) h) in
    s.1 ∙ ap (λ z. z ∷ []) (one_byte s.0 61 s.2 (λ x. cc) (λ x. cc))

-- the operator of an assignment has a `=`
operator-has : (us : List (List Cell)) (a : Assignment Cell) → IsAssignment joined_byte us a → Has (61 ∷ []) (raw_text (concat a.operator))
operator-has us a I =
    let E = assignment-has_equals joined_byte (assignment_units a) a (I.again a.value a.after I.are_value) in
    let none : AreValue joined_byte [] [] = record { begins = tt; ends = tt; blanks_after = tt; empty = λ x. refl } in
    let X = E.again [] [] [] tt none in
    let J = assignment-is joined_byte (E.front ++ E.equals ∷ []) (record a { operator = X.0; value = []; after = [] }) X.1 in
    let S = EndsPlain-split joined_byte X.0 J.operator_ends in
    let bare : a.before ++ (a.name ++ X.0) ≡ E.front ++ E.equals ∷ [] = ap (λ z. a.before ++ (a.name ++ z)) (sym (append-nil X.0)) ∙ J.whole in
    let split : (a.before ++ (a.name ++ S.0)) ++ (S.1 ∷ []) ∷ [] ≡ E.front ++ E.equals ∷ [] =
    append_assoc a.before (a.name ++ S.0) ((S.1 ∷ []) ∷ []) ∙ (ap (λ z. a.before ++ z) (append_assoc a.name S.0 ((S.1 ∷ []) ∷ [])) ∙ (ap (λ z. a.before ++ (a.name ++ z)) (sym S.2) ∙ bare)) in
    let front = (last-same (a.before ++ (a.name ++ S.0)) E.front (S.1 ∷ []) E.equals split).0 in
    let G = E.equals ∷ E.gaps in
    let whole : a.before ++ (a.name ++ a.operator) ≡ a.before ++ (a.name ++ (S.0 ++ G)) =
    E.before_is ∙ (ap (λ z. z ++ G) (sym front) ∙ (append_assoc a.before (a.name ++ S.0) G ∙ ap (λ z. a.before ++ z) (append_assoc a.name S.0 G))) in
    let operator : a.operator ≡ S.0 ++ G =
    append_cancel_left a.name a.operator (S.0 ++ G) (append_cancel_left a.before (a.name ++ a.operator) (a.name ++ (S.0 ++ G)) whole) in
    let raw : raw_text (concat a.operator) ≡ raw_text (concat S.0) ++ raw_text (concat G) = ap (λ z. raw_text (concat z)) operator ∙ raw-units S.0 G in
    let sign : raw_text (concat G) ≡ (61 ∷ []) ++ raw_text (concat E.gaps) = ap (λ z. raw_text (z ++ concat E.gaps)) (equals-is E.equals E.equals_is) in
    has-in (61 ∷ []) (raw_text (concat a.operator)) (raw_text (concat S.0) ++ raw_text (concat G)) raw
    (has-right (61 ∷ []) (raw_text (concat S.0)) (raw_text (concat G)) (has-in (61 ∷ []) (raw_text (concat G)) ((61 ∷ []) ++ raw_text (concat E.gaps)) sign (has-front (61 ∷ []) (raw_text (concat E.gaps)))))

-- what stands before the value has a `=`
value-sign : (us : List (List Cell)) (a : Assignment Cell) → IsAssignment joined_byte us a → Has (61 ∷ []) (raw_text (concat (before_value a)))
value-sign us a I =
    let B = raw_text (concat a.before) in
    let N = raw_text (concat a.name) in
    let O = raw_text (concat a.operator) in
    has-in (61 ∷ []) (raw_text (concat (before_value a))) (B ++ (N ++ O)) (raw-units a.before (a.name ++ a.operator) ∙ ap (λ z. B ++ z) (raw-units a.name a.operator))
    (has-right (61 ∷ []) B (N ++ O) (has-right (61 ∷ []) N O (operator-has us a I)))

-- it has the name, and behind it a `=`
value-front : (us : List (List Cell)) (a : Assignment Cell) (n : List ℕ) → IsAssignment joined_byte us a → AreEdged (concat (before_value a)) → unit_text joined_byte a.name ≡ n → Names n 61 (raw_text (concat (before_value a)))
value-front us a n I q e plain =
    let B = raw_text (concat a.before) in
    let O = raw_text (concat a.operator) in
    let cells : concat (before_value a) ≡ concat a.before ++ (concat a.name ++ concat a.operator) =
    concat-append a.before (a.name ++ a.operator) ∙ ap (λ z. concat a.before ++ z) (concat-append a.name a.operator) in
    let Q = subst AreEdged cells q in
    let rest = edged-right (concat a.before) (concat a.name ++ concat a.operator) Q in
    let E =
    name-edges (assignment_units a) a (I.again a.value a.after I.are_value) (edged-left (concat a.before) (concat a.name ++ concat a.operator) Q) (edged-right (concat a.name) (concat a.operator) rest) in
    let whole : raw_text (concat (before_value a)) ≡ B ++ (n ++ O) =
    raw-units a.before (a.name ++ a.operator) ∙ ap (λ z. B ++ z) (raw-units a.name a.operator ∙ ap (λ z. z ++ O) (solid-word (concat a.name) n e (all-solid n plain))) in
    names-in n 61 (raw_text (concat (before_value a))) (B ++ (n ++ O)) whole (names-parts n 61 B O E.before E.behind (operator-has us a I)) plain

-- The line of an assignment of a name: the bytes before the value, which have the name and a `=`, and others.
pub record IsAssignLine (n l : List ℕ) (k : Class Cell) : Type 0 where
  pub assigned : Assignment Cell
  pub sets : Option ℕ
  pub class_is : k ≡ Assign assigned sets
  pub rest : List ℕ
  pub whole : l ≡ raw_text (concat (before_value assigned)) ++ rest
  pub front : Names n 61 (raw_text (concat (before_value assigned)))
  pub sign : Has (61 ∷ []) (raw_text (concat (before_value assigned)))

pub assign-line : (c : Context) (n l : List ℕ) (k : Class Cell) → class_of c l ≡ k → assigns n k ≡ true → IsAssignLine n l k
assign-line c n l (Assign a p) k h =
    let P = assign-parts c l a p k in
    let F = concat (before_value a) in
    let R = concat a.value ++ concat (a.after ++ P.rest) in
    let end = line_end_bytes (line_end l) in
    record {
      assigned = a;
      sets = p;
      class_is = refl;
      rest = raw_text R ++ end;
      whole = line-bytes l ∙ (ap (λ z. z ++ end) (ap raw_text P.cells_are ∙ raw_text-append F R) ∙ append_assoc (raw_text F) (raw_text R) end);
      front = value-front _ a n P.is (edged-left F R (subst AreEdged P.cells_are (cells-edged (without_line_end l)))) ((bytes_eq-Decides (unit_text joined_byte a.name) n).0 h);
      sign = value-sign _ a P.is;
    }
assign-line c n l Endef k h = absurd (cc)
assign-line c n l (Body d) k h = absurd (cc)
assign-line c n l Recipe k h = absurd (cc)
assign-line c n l Opaque k h = absurd (cc)
assign-line c n l Blank k h = absurd (cc)
assign-line c n l Comment k h = absurd (cc)
assign-line c n l (DefineHead p) k h = absurd (cc)
assign-line c n l If k h = absurd (cc)
assign-line c n l Else k h = absurd (cc)
assign-line c n l Endif k h = absurd (cc)
assign-line c n l Directive k h = absurd (cc)
assign-line c n l (TargetAssign t) k h = absurd (cc)
assign-line c n l Rough k h = absurd (cc)
assign-line c n l (Header x) k h = absurd (cc)

-- such a line has a `=`
pub assign-has_sign : (c : Context) (n l : List ℕ) (k : Class Cell) → class_of c l ≡ k → assigns n k ≡ true → Has (61 ∷ []) l
assign-has_sign c n l k e h =
    let L = assign-line c n l k e h in
    let F = raw_text (concat (before_value L.assigned)) in
    has-in (61 ∷ []) l (F ++ L.rest) L.whole (has-left (61 ∷ []) F L.rest L.sign)

-- such a line names the variable
pub assign-names : (c : Context) (n l : List ℕ) (k : Class Cell) → class_of c l ≡ k → assigns n k ≡ true → Names n 61 l
assign-names c n l k e h =
    let L = assign-line c n l k e h in
    let F = raw_text (concat (before_value L.assigned)) in
    names-in n 61 l (F ++ L.rest) L.whole (names-left n 61 F L.rest L.front)

-- ---- the line of a rule

-- a separator has a `:`
first-colon : (u : List Cell) (us : List (List Cell)) → symbol joined_byte u ≡ Colon → Has (58 ∷ []) (raw_text (concat (u ∷ us)))
first-colon u us e = has-in (58 ∷ []) (raw_text (u ++ concat us)) ((58 ∷ []) ++ raw_text (concat us)) (ap (λ z. raw_text (z ++ concat us)) (colon-is u e)) (has-front (58 ∷ []) (raw_text (concat us)))

colon-begins : (u : List Cell) (us : List (List Cell)) → symbol joined_byte u ≡ Colon → BeginsBehind (raw_text (concat (u ∷ us)))
colon-begins u us e = (58, raw_text (concat us), ap (λ z. raw_text (z ++ concat us)) (colon-is u e), behind-colon)

ampersand-begins : (u : List Cell) (us : List (List Cell)) → symbol joined_byte u ≡ Ampersand → BeginsBehind (raw_text (concat (u ∷ us)))
ampersand-begins u us e =
    let s = symbol-unit joined_byte u Ampersand (λ x. cc) e in
    let is : u ≡ Byte 38 ∷ [] = s.1 ∙ ap (λ z. z ∷ []) (one_byte s.0 38 s.2 (λ x. cc) (λ x. cc)) in
    (38, raw_text (concat us), ap (λ z. raw_text (z ++ concat us)) is, behind-ampersand)

separator-has : (us : List (List Cell)) (s : Separator) → map (symbol joined_byte) us ≡ separator_symbols s → Has (58 ∷ []) (raw_text (concat us))
separator-has [] SingleColon e = absurd (cc)
separator-has [] DoubleColon e = absurd (cc)
separator-has [] GroupedColon e = absurd (cc)
separator-has [] GroupedDoubleColon e = absurd (cc)
separator-has (u ∷ us) SingleColon e = first-colon u us cc
separator-has (u ∷ us) DoubleColon e = first-colon u us cc
separator-has (u ∷ []) GroupedColon e = absurd (cc)
separator-has (u ∷ v ∷ us) GroupedColon e =
    let V = concat (v ∷ us) in
    has-in (58 ∷ []) (raw_text (u ++ V)) (raw_text u ++ raw_text V) (raw_text-append u V) (has-right (58 ∷ []) (raw_text u) (raw_text V) (first-colon v us cc))
separator-has (u ∷ []) GroupedDoubleColon e = absurd (cc)
separator-has (u ∷ v ∷ us) GroupedDoubleColon e =
    let V = concat (v ∷ us) in
    has-in (58 ∷ []) (raw_text (u ++ V)) (raw_text u ++ raw_text V) (raw_text-append u V) (has-right (58 ∷ []) (raw_text u) (raw_text V) (first-colon v us cc))

-- and begins with what may follow a word
separator-begins : (us : List (List Cell)) (s : Separator) → map (symbol joined_byte) us ≡ separator_symbols s → BeginsBehind (raw_text (concat us))
separator-begins [] SingleColon e = absurd (cc)
separator-begins [] DoubleColon e = absurd (cc)
separator-begins [] GroupedColon e = absurd (cc)
separator-begins [] GroupedDoubleColon e = absurd (cc)
separator-begins (u ∷ us) SingleColon e = colon-begins u us cc
separator-begins (u ∷ us) DoubleColon e = colon-begins u us cc
separator-begins (u ∷ us) GroupedColon e = ampersand-begins u us cc
separator-begins (u ∷ us) GroupedDoubleColon e = ampersand-begins u us cc

-- the targets and the separator of a rule, with any bytes behind them
pub header-front : (c : Context) (l g : List ℕ) (h : Headers.Header Cell) (rest : List ℕ) → class_of c l ≡ Header h → is_one_of g (word_texts joined_byte h.targets) ≡ true
    → Names g 58 (raw_text (concat h.targets) ++ (raw_text (concat (middle_units h)) ++ rest))
header-front c l g h rest k o plain =
    let H = header-here c l h k in
    let T = raw_text (concat h.targets) in
    let C = raw_text (concat h.colons) in
    let P = raw_text (concat (h.pattern ++ h.second_colon)) in
    let M = raw_text (concat (middle_units h)) in
    let middle : M ≡ C ++ P = raw-units h.colons (h.pattern ++ h.second_colon) in
    let colons = H.known.fits.colons_are in
    let sign : Has (58 ∷ []) (M ++ rest) = has-left (58 ∷ []) M rest (has-in (58 ∷ []) M (C ++ P) middle (has-left (58 ∷ []) C P (separator-has h.colons h.separator colons))) in
    let begins : BeginsBehind (M ++ rest) = begins-left M rest (subst BeginsBehind (sym middle) (begins-left C P (separator-begins h.colons h.separator colons))) in
    let edged : AreEdged (concat h.targets) =
    edged-left (concat h.targets) _ (subst AreEdged (H.known.cells_are ∙ header-cells h) (cells-edged (without_line_end l))) in
    let ts = tokens joined_byte h.targets in
    let units = token_units-tokens joined_byte h.targets in
    let W = token-cut g ts (tokens-are_tokens joined_byte h.targets) (subst (λ z. AreEdged (concat z)) (sym units) edged) o (all-solid g plain) in
    let targets : T ≡ W.front ++ (g ++ W.rest) = ap (λ z. raw_text (concat z)) (sym units) ∙ W.whole in
    let whole : T ++ (M ++ rest) ≡ W.front ++ (g ++ (W.rest ++ (M ++ rest))) =
    ap (λ z. z ++ (M ++ rest)) targets ∙ (append_assoc W.front (g ++ W.rest) (M ++ rest) ∙ ap (λ z. W.front ++ z) (append_assoc g W.rest (M ++ rest))) in
    names-in g 58 (T ++ (M ++ rest)) (W.front ++ (g ++ (W.rest ++ (M ++ rest)))) whole
    (names-parts g 58 W.front (W.rest ++ (M ++ rest)) W.before (behind W.rest (M ++ rest) W.behind begins) (has-right (58 ∷ []) W.rest (M ++ rest) sign)) plain
  where
    behind : (a b : List ℕ) → (a ≡ []) ⊎ BeginsBehind a → BeginsBehind b → BeginsBehind (a ++ b)
    behind a b (inl e) h = subst (λ z. BeginsBehind (z ++ b)) (sym e) h
    behind a b (inr k) h = begins-left a b k

-- the bytes of a rule's line
header-line : (c : Context) (l : List ℕ) (h : Headers.Header Cell) → class_of c l ≡ Header h
    → (rest : List ℕ) × (l ≡ raw_text (concat h.targets) ++ (raw_text (concat (middle_units h)) ++ rest))
header-line c l h k =
    let H = header-here c l h k in
    let T = concat h.targets in
    let M = concat (middle_units h) in
    let R = concat h.normal ++ (concat h.bar ++ (concat h.order_only ++ concat h.tail)) in
    let end = line_end_bytes (line_end l) in
    let cells : raw_text (concat (Headers.header_units h)) ≡ raw_text T ++ (raw_text M ++ raw_text R) =
    ap raw_text (header-cells h) ∙ (raw_text-append T (M ++ R) ∙ ap (λ z. raw_text T ++ z) (raw_text-append M R)) in
    (raw_text R ++ end, H.whole ∙ (ap (λ z. z ++ end) cells ∙ (append_assoc (raw_text T) (raw_text M ++ raw_text R) end ∙ ap (λ z. raw_text T ++ z) (append_assoc (raw_text M) (raw_text R) end))))

-- the header of a rule for a target
pub record IsRuleFor (g : List ℕ) (k : Class Cell) : Type 0 where
  pub header : Headers.Header Cell
  pub class_is : k ≡ Header header
  pub is_target : is_one_of g (word_texts joined_byte header.targets) ≡ true

pub rule-for : (g : List ℕ) (k : Class Cell) → is_rule_for g k ≡ true → IsRuleFor g k
rule-for g (Header h) e = record { header = h; class_is = refl; is_target = e }
rule-for g Endef e = absurd (cc)
rule-for g (Body d) e = absurd (cc)
rule-for g Recipe e = absurd (cc)
rule-for g Opaque e = absurd (cc)
rule-for g Blank e = absurd (cc)
rule-for g Comment e = absurd (cc)
rule-for g (Assign a p) e = absurd (cc)
rule-for g (DefineHead p) e = absurd (cc)
rule-for g If e = absurd (cc)
rule-for g Else e = absurd (cc)
rule-for g Endif e = absurd (cc)
rule-for g Directive e = absurd (cc)
rule-for g (TargetAssign a) e = absurd (cc)
rule-for g Rough e = absurd (cc)

-- the line of a rule names each of its targets
pub rule-names : (c : Context) (g l : List ℕ) (k : Class Cell) → class_of c l ≡ k → is_rule_for g k ≡ true → Names g 58 l
rule-names c g l k e o =
    let R = rule-for g k o in
    let i = e ∙ R.class_is in
    let L = header-line c l R.header i in
    names-in g 58 l _ L.1 (header-front c l g R.header L.0 i R.is_target)
