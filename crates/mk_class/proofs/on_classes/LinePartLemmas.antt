-- The parts of a line by the class that the code has for it: what stands in each range that it gives, for assignments,
-- assignments for targets and headers.
use Rattle.std.proofs.Common.{◌≡◌, refl, sym, ap, ◌∙◌, subst, arith, ℕ, suc, ◌+◌, List, [], ◌∷◌, ◌++◌, map, length, append_assoc, Bool, not}
use Rattle.std.specs.Prelude.{nat_lt, if◌then◌else◌}
use Rattle.mk_lines.proofs.on_lists.ListLemmas.{leading-after_leading}
use Rattle.mk_lines.specs.Cells.{Cell, joined_byte, line_cells}
use Rattle.mk_lines.specs.Units.{units}
use Rattle.mk_class.specs.ListTests.{is_empty}
use Rattle.mk_class.specs.Symbols.{Symbol, symbol}
use Rattle.mk_class.specs.Symbols.Symbol.{Colon, Bar, NoSymbol}
use Rattle.mk_class.proofs.on_symbols.SymbolLemmas.{symbol-unit, colon_symbol-is, bar_symbol-is}
use Rattle.mk_class.specs.CutTexts.{cut_text, comment, is_no_hash}
use Rattle.mk_class.specs.Assignments.{Assignment}
use Rattle.mk_class.proofs.on_assignments.AssignmentsWhole.{assignment_units, assignment-is}
use Rattle.mk_class.specs.Separators.{Separated, separated, separator_length}
use Rattle.mk_class.specs.Headers
use Rattle.mk_class.specs.Headers.{TargetAssignment, header_units}
use Rattle.mk_class.proofs.on_headers.HeadersWhole.{header-whole, separated-whole}
use Rattle.mk_class.specs.HeaderFits.{FitsHeader, FitsBar, FitsPattern, separator_symbols}
use Rattle.mk_class.proofs.on_headers.HeaderFitsLemmas.{header-fits}
use Rattle.mk_class.specs.Classes.{Class}
use Rattle.mk_class.specs.Classes.Class.{Endef, Body, Recipe, Opaque, Blank, Comment, Assign, DefineHead, If, Else, Endif, Directive, TargetAssign, Rough, Header}
use Rattle.mk_class.specs.RecipePrefix.{is_prefix_led}
use Rattle.mk_class.specs.Contexts.{Context}
use Rattle.mk_class.specs.ClassTable.{class_of, is_unreadable}
use Rattle.mk_class.specs.LocatedClasses.{width, located_class, located_assignment, located_target_assignment, located_header}
use Rattle.mk_class.proofs.on_classes.ClassHolds.{IsTarget, IsHeader, Holds, class_at-holds}
use Rattle.mk_class.proofs.on_classes.PartOffsetLemmas.{part-is, width-append}
use Rattle.mk_class.specs.declared.rule.Separator.{Separator}
use Rattle.mk_class.specs.declared.rule.Separator.TheVariants.{SingleColon, DoubleColon, GroupedColon, GroupedDoubleColon}
use Rattle.mk_class.specs.declared.class.Class as class
use Rattle.mk_class.specs.LineParts.{IsHeaderLocated, IsAssignmentLocated, IsTargetAssignmentLocated, ArePartsLocated}

-- ---- headers

-- a unit that is a symbol has one byte
symbol-width : (u : List Cell) (s : Symbol) (us : List (List Cell)) → (NoSymbol ≡ s → ⊥) → symbol joined_byte u ≡ s → width (u ∷ us) ≡ suc (width us)
symbol-width u s us n h = ap (λ z. width (z ∷ us)) (symbol-unit joined_byte u s n h).1

pub bar-width : (b o : List (List Cell)) → FitsBar joined_byte b o → width b ≡ (if not (is_empty b) then 1 else 0)
bar-width [] o h = refl
bar-width (u ∷ []) o h = symbol-width u Bar [] (λ x. cc) (bar_symbol-is (symbol joined_byte u) h)
bar-width (u ∷ v ∷ b) o h = absurd h

pattern-width : (p c us : List (List Cell)) → FitsPattern joined_byte p c us → width c ≡ (if not (is_empty c) then 1 else 0)
pattern-width p [] us h = refl
pattern-width p (u ∷ []) us h = symbol-width u Colon [] (λ x. cc) (colon_symbol-is (symbol joined_byte u) h.0)
pattern-width p (u ∷ v ∷ c) us h = absurd h

abbrev AreSymbols : List Symbol → Type 0
AreSymbols [] = Unit {0}
AreSymbols (s ∷ ss) = (NoSymbol ≡ s → ⊥) × AreSymbols ss

-- a separator has the bytes of its symbols
colons-width : (s : Separator) (us : List (List Cell)) → map (symbol joined_byte) us ≡ separator_symbols s → width us ≡ separator_length s
colons-width s us h = symbols us (separator_symbols s) h (no-none s) ∙ count s
  where
    symbols : (us : List (List Cell)) (ss : List Symbol) → map (symbol joined_byte) us ≡ ss → AreSymbols ss → width us ≡ length ss
    symbols [] [] e n = refl
    symbols [] (x ∷ ss) e n = cc
    symbols (u ∷ us) [] e n = cc
    symbols (u ∷ us) (x ∷ ss) e n =
        let a : symbol joined_byte u ≡ x = cc in
        let b : map (symbol joined_byte) us ≡ ss = cc in
        symbol-width u x us n.0 a ∙ ap suc (symbols us ss b n.1)

    no-none : (s : Separator) → AreSymbols (separator_symbols s)
    no-none SingleColon = ((λ x. cc), tt)
    no-none DoubleColon = ((λ x. cc), ((λ x. cc), tt))
    no-none GroupedColon = ((λ x. cc), ((λ x. cc), tt))
    no-none GroupedDoubleColon = ((λ x. cc), ((λ x. cc), ((λ x. cc), tt)))

    count : (s : Separator) → length (separator_symbols s) ≡ separator_length s
    count SingleColon = refl
    count DoubleColon = refl
    count GroupedColon = refl
    count GroupedDoubleColon = refl

header-parts : (led c un : Bool) (cs : List Cell) (h : Headers.Header Cell) → IsHeader joined_byte (units joined_byte cs) led c un h → IsHeaderLocated cs (located_header joined_byte h) h
header-parts led c un cs h i =
    let us = units joined_byte cs in
    let T = h.targets in
    let C = h.colons in
    let P = h.pattern in
    let D = h.second_colon in
    let N = h.normal in
    let B = h.bar in
    let O = h.order_only in
    let whole : us ≡ header_units h = sym (header-whole joined_byte us) ∙ ap header_units i.is in
    let f : FitsHeader joined_byte h = subst (FitsHeader joined_byte) i.is (header-fits joined_byte us i.rule.colon i.not_rough) in
    let w : width C ≡ separator_length h.separator = colons-width h.separator C f.colons_are in
    let d : width D ≡ (if not (is_empty D) then 1 else 0) = pattern-width P D (N ++ (B ++ O)) f.pattern_fits in
    let b : width B ≡ (if not (is_empty B) then 1 else 0) = bar-width B O f.bar_fits in
    let w1 : width (T ++ C) ≡ width T + width C = width-append T C in
    let w2 : width (T ++ (C ++ (P ++ D))) ≡ width T + (width C + (width P + width D)) = omega (arith, width-append T (C ++ (P ++ D)), width-append C (P ++ D), width-append P D) in
    let w3 : width (T ++ (C ++ (P ++ (D ++ (N ++ B))))) ≡ width T + (width C + (width P + (width D + (width N + width B)))) =
    omega (arith, width-append T (C ++ (P ++ (D ++ (N ++ B)))), width-append C (P ++ (D ++ (N ++ B))), width-append P (D ++ (N ++ B)), width-append D (N ++ B), width-append N B) in
    record {
      targets = part-is cs 0 (width T) [] T _ whole refl (omega arith);
      separator = part-is cs _ _ T C _ whole refl (omega (arith, w));
      pattern = part-is cs _ _ (T ++ C) P (D ++ (N ++ (B ++ (O ++ h.tail)))) (whole ∙ simp append_assoc) (omega (arith, w, w1)) (omega (arith, w, d));
      normal = part-is cs _ _ (T ++ (C ++ (P ++ D))) N (B ++ (O ++ h.tail)) (whole ∙ simp append_assoc) (omega (arith, w2)) refl;
      order_only = part-is cs _ _ (T ++ (C ++ (P ++ (D ++ (N ++ B))))) O h.tail (whole ∙ simp append_assoc) (omega (arith, b, w3)) (omega (arith, b));
    }

assign-parts : (cs : List Cell) (n : ℕ) (front rest : List (List Cell)) (a : Assignment Cell) → units joined_byte cs ≡ front ++ (assignment_units a ++ rest) → n ≡ width front → IsAssignmentLocated cs (located_assignment n a) front a
assign-parts cs n F rest a whole m =
    let X = a.before in
    let N = a.name in
    let O = a.operator in
    let V = a.value in
    let w1 : width (F ++ X) ≡ n + width X = omega (arith, m, width-append F X) in
    let w2 : width (F ++ (X ++ N)) ≡ n + width X + width N = omega (arith, m, width-append F (X ++ N), width-append X N) in
    let w3 : width (F ++ (X ++ (N ++ O))) ≡ n + width X + width N + width O = omega (arith, m, width-append F (X ++ (N ++ O)), width-append X (N ++ O), width-append N O) in
    let w4 : width (F ++ (X ++ (N ++ (O ++ V)))) ≡ n + width X + width N + width O + width V =
    omega (arith, m, width-append F (X ++ (N ++ (O ++ V))), width-append X (N ++ (O ++ V)), width-append N (O ++ V), width-append O V) in
    record {
      name = part-is cs _ _ (F ++ X) N (O ++ (V ++ (a.after ++ rest))) (whole ∙ simp append_assoc) (sym w1) refl;
      operator = part-is cs _ _ (F ++ (X ++ N)) O (V ++ (a.after ++ rest)) (whole ∙ simp append_assoc) (sym w2) refl;
      value = part-is cs _ _ (F ++ (X ++ (N ++ O))) V (a.after ++ rest) (whole ∙ simp append_assoc) (sym w3) refl;
      after = part-is cs _ _ (F ++ (X ++ (N ++ (O ++ V)))) a.after rest (whole ∙ simp append_assoc) (sym w4) refl;
    }

target-parts : (led c un : Bool) (cs : List Cell) (t : TargetAssignment Cell) → IsTarget joined_byte (units joined_byte cs) led c un t → IsTargetAssignmentLocated cs (located_target_assignment t) t
target-parts led c un cs t i =
    let us = units joined_byte cs in
    let S : Separated Cell = separated joined_byte (cut_text joined_byte us) in
    let cut : cut_text joined_byte us ≡ t.targets ++ (t.colons ++ S.rest) = sym (separated-whole joined_byte (cut_text joined_byte us)) ∙ ap (λ (z : TargetAssignment Cell). z.targets ++ (z.colons ++ S.rest)) i.is in
    let own : S.rest ≡ assignment_units t.assigned = sym (assignment-is joined_byte S.rest t.assigned i.assigned).whole in
    let line : us ≡ (t.targets ++ (t.colons ++ assignment_units t.assigned)) ++ comment joined_byte us =
    sym (leading-after_leading (is_no_hash joined_byte) us) ∙ ap (λ z. z ++ comment joined_byte us) (cut ∙ ap (λ z. t.targets ++ (t.colons ++ z)) own) in
    record {
      targets = part-is cs 0 (width t.targets) [] t.targets _ (line ∙ append_assoc t.targets (t.colons ++ assignment_units t.assigned) (comment joined_byte us)) refl (omega arith);
      assigned = assign-parts cs _ (t.targets ++ t.colons) (comment joined_byte us) t.assigned (line ∙ simp append_assoc) (sym (width-append t.targets t.colons));
    }

parts_located : (led c un : Bool) (cs : List Cell) (k : Class Cell) → Holds joined_byte (units joined_byte cs) led c un k → ArePartsLocated cs k (located_class joined_byte k)
parts_located led c un cs (Assign a p) h =
    let us = units joined_byte cs in
    let own : cut_text joined_byte us ≡ assignment_units a = sym (assignment-is joined_byte (cut_text joined_byte us) a h.assigned).whole in
    (a, refl, assign-parts cs 0 [] (comment joined_byte us) a (sym (leading-after_leading (is_no_hash joined_byte) us) ∙ ap (λ z. z ++ comment joined_byte us) own) refl)
parts_located led c un cs (TargetAssign t) h = (t, refl, target-parts led c un cs t h)
parts_located led c un cs (Header x) h = (x, refl, header-parts led c un cs x h)
parts_located led c un cs Endef h = tt
parts_located led c un cs (Body n) h = tt
parts_located led c un cs Recipe h = tt
parts_located led c un cs Opaque h = tt
parts_located led c un cs Blank h = tt
parts_located led c un cs Comment h = tt
parts_located led c un cs (DefineHead p) h = tt
parts_located led c un cs If h = tt
parts_located led c un cs Else h = tt
parts_located led c un cs Endif h = tt
parts_located led c un cs Directive h = tt
parts_located led c un cs Rough h = tt

-- what is known of a line by the class that the code has for it
pub line-parts_located : (c : Context) (l : List ℕ) (k : class.Class) → k ≡ located_class joined_byte (class_of c l) → ArePartsLocated (line_cells l) (class_of c l) k
line-parts_located c l k h =
    let cs = line_cells l in
    subst (ArePartsLocated cs (class_of c l)) (sym h) (
    parts_located (is_prefix_led c.prefix l) (nat_lt 0 c.conditionals) (is_unreadable cs) cs (class_of c l) (class_at-holds joined_byte (units joined_byte cs) (is_prefix_led c.prefix l) (nat_lt 0 c.conditionals) (is_unreadable cs) c.defines c.flag)
    )

-- the offsets of the parts of a header
pub header-located : (c : Context) (l : List ℕ) (h : Headers.Header Cell) → class_of c l ≡ Header h → IsHeaderLocated (line_cells l) (located_header joined_byte h) h
header-located c l h e =
    let s = line-parts_located c l (located_class joined_byte (Header h)) (ap (located_class joined_byte) (sym e)) in
    let q : Header s.0 ≡ Header h = sym s.1 ∙ e in
    let r : s.0 ≡ h = cc in
    subst (IsHeaderLocated (line_cells l) (located_header joined_byte h)) r s.2

pub target-located : (c : Context) (l : List ℕ) (t : TargetAssignment Cell) → class_of c l ≡ TargetAssign t → IsTargetAssignmentLocated (line_cells l) (located_target_assignment t) t
target-located c l t e =
    let s = line-parts_located c l (located_class joined_byte (TargetAssign t)) (ap (located_class joined_byte) (sym e)) in
    let q : TargetAssign s.0 ≡ TargetAssign t = sym s.1 ∙ e in
    let r : s.0 ≡ t = cc in
    subst (IsTargetAssignmentLocated (line_cells l) (located_target_assignment t)) r s.2
