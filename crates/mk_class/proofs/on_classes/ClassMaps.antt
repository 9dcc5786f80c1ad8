-- The table of classes is natural: units and their images are of the same class, offsets and all. So the class of a line's cells
-- is that of its joined text, and depends beside it only on whether the line has a stray byte or a bad fold.
use Rattle.std.proofs.Common.{◌≡◌, refl, ap, ◌∙◌, sym, ℕ, suc, zero, List, map, Bool, true, false, not, ◌||◌, cond, Option, Some, None}
use Rattle.std.specs.List.{list_any}
use Rattle.std.specs.Prelude.{nat_lt}
use Rattle.mk_lines.specs.Lists.{after_leading}
use Rattle.mk_lines.specs.Cells.{joined_byte, joined_text, line_cells}
use Rattle.mk_lines.specs.Units.{units}
use Rattle.mk_lines.proofs.on_units.UnitLemmas.{units-map}
use Rattle.mk_lines.specs.Words.{is_gap}
use Rattle.mk_lines.proofs.on_units.TokenLemmas.{is_gap-map}
use Rattle.mk_class.specs.ListTests.{is_empty}
use Rattle.mk_class.proofs.on_symbols.ListMaps.{is_empty-map, any-map, after_leading-map}
use Rattle.mk_class.specs.Texts.{word_texts}
use Rattle.mk_class.specs.Symbols.{is_hash}
use Rattle.mk_class.proofs.on_symbols.SymbolMaps.{is_hash-map, word_texts-map, cut_text-map, head-map}
use Rattle.mk_class.specs.CutTexts.{cut_text, head}
use Rattle.mk_class.specs.Assignments.{Assignment, assignment}
use Rattle.mk_class.proofs.on_assignments.AssignmentMaps.{map_assigned, assignment-map}
use Rattle.mk_class.specs.Separators.{Separated, separated, has_colon, takes_assignment}
use Rattle.mk_class.specs.Headers.{header, is_rough}
use Rattle.mk_class.proofs.on_headers.HeaderMaps.{map_separated, map_header, has_colon-map, separated-map, header-map, is_rough-map}
use Rattle.mk_class.proofs.on_symbols.OffsetMaps.{located_assignment-map, located_target_assignment-map, located_header-map, prefix_set_by-map}
use Rattle.mk_class.specs.Classes.{Class, Said, class_said}
use Rattle.mk_class.specs.Classes.Class.{Opaque, Rough, Header}
use Rattle.mk_class.specs.RecipePrefix.{is_prefix_led}
use Rattle.mk_class.specs.Contexts.{Context}
use Rattle.mk_class.specs.ClassTable.{body_class, directive, header_class, target_class, separated_class, rule_class, assign_class, or_class, is_all_blanks, is_unreadable, answered, plain_class, undefined_class, class_at, class_of}
use Rattle.mk_class.specs.LocatedClasses.{located_class}
use Rattle.mk_class.specs.TextClasses.{itself, text_class}
use Rattle.mk_class.specs.declared.context.RuleFlag.{RuleFlag}
use Rattle.mk_class.specs.declared.context.RuleFlag.TheVariants.{Off, Rule, Unknown}
use Rattle.mk_class.specs.declared.class.Class.TheVariants as variants

-- equal answers give equal classes
pub answered-same : {A : Type 0} (byte : A → ℕ) (led c un e h k E H K : Bool) (a b : Option (Assignment A)) (d s : Option Said) (r : Class A) → e ≡ E → h ≡ H → k ≡ K → a ≡ b → d ≡ s
    → answered byte led c un e h k a d r ≡ answered byte led c un E H K b s r
answered-same byte led c un e h k E H K a b d s r i j l m n = rw (i, j, l, m, n) refl

module _ {A B : Type 0} (f : A → B) (byte : B → ℕ) where
  -- a class of units and one of their images have the same offsets
  abbrev HaveSameOffsets : Class A → Class B → Type 0
  HaveSameOffsets k j = located_class byte j ≡ located_class (λ x. byte (f x)) k

  same-if : (c : Bool) (k l : Class A) (i j : Class B) → HaveSameOffsets k i → HaveSameOffsets l j → HaveSameOffsets (cond c k l) (cond c i j)
  same-if true k l i j h e = h
  same-if false k l i j h e = e

  same-said : (s : Said) → HaveSameOffsets (class_said s) (class_said s)
  same-said Said.Endef = refl
  same-said (Said.Body n) = refl
  same-said (Said.DefineHead p) = refl
  same-said Said.If = refl
  same-said Said.Else = refl
  same-said Said.Endif = refl
  same-said Said.Directive = refl

  same-or : (o : Option Said) (k : Class A) (j : Class B) → HaveSameOffsets k j → HaveSameOffsets (or_class o k) (or_class o j)
  same-or None k j h = h
  same-or (Some s) k j h = same-said s

  same-assign : (c : Bool) (o : Option (Assignment A)) (k : Class A) (j : Class B) → HaveSameOffsets k j
      → HaveSameOffsets (assign_class (λ x. byte (f x)) c o k) (assign_class byte c (map_assigned f o) j)
  same-assign c None k j h = h
  same-assign c (Some a) k j h = rw (located_assignment-map f 0 a, prefix_set_by-map f byte c a) refl

  same-target : (s : Separated A) (o : Option (Assignment A)) (k : Class A) (j : Class B) → HaveSameOffsets k j → HaveSameOffsets (target_class s o k) (target_class (map_separated f s) (map_assigned f o) j)
  same-target s None k j h = h
  same-target s (Some a) k j h = ap variants.TargetAssign (located_target_assignment-map f (record { separator = s.separator; targets = s.targets; colons = s.colons; assigned = a }))

  same-header : (us : List (List A)) → HaveSameOffsets (header_class (λ x. byte (f x)) us) (header_class byte (map (map f) us))
  same-header us =
      let H = header (λ x. byte (f x)) us in
      let D = head (λ x. byte (f x)) us in
      let e : header_class byte (map (map f) us) ≡ cond (is_rough (λ x. byte (f x)) D H) Rough (Header (map_header f H)) =
      ap (λ z. cond (is_rough byte z (header byte (map (map f) us))) Rough (Header (header byte (map (map f) us)))) (head-map f byte us)
      ∙ (ap (λ z. cond (is_rough byte (map (map f) D) z) Rough (Header z)) (header-map f byte us) ∙ ap (λ z. cond z Rough (Header (map_header f H))) (is_rough-map f byte D H)) in
      ap (located_class byte) e ∙ same-if (is_rough (λ x. byte (f x)) D H) Rough (Header H) Rough (Header (map_header f H)) refl (ap variants.Header (located_header-map f byte H))

  same-separated : (s : Separated A) (us : List (List A)) → HaveSameOffsets (separated_class (λ x. byte (f x)) s us) (separated_class byte (map_separated f s) (map (map f) us))
  same-separated s us =
      let O = assignment (λ x. byte (f x)) s.rest in
      rw (assignment-map f byte s.rest) (same-if (takes_assignment s.separator) _ _ _ _ (same-target s O _ _ (same-header us)) (same-header us))

  same-rule : (us : List (List A)) → HaveSameOffsets (rule_class (λ x. byte (f x)) us) (rule_class byte (map (map f) us))
  same-rule us =
      let C = cut_text (λ x. byte (f x)) us in
      ap (λ z. located_class byte (separated_class byte z (map (map f) us))) (ap (separated byte) (cut_text-map f byte us) ∙ separated-map f byte C) ∙ same-separated (separated (λ x. byte (f x)) C) us

  all_blanks-map : (us : List (List A)) → is_all_blanks byte (map (map f) us) ≡ is_all_blanks (λ x. byte (f x)) us
  all_blanks-map us =
      ap is_empty (after_leading-map (map f) (is_gap (λ x. byte (f x))) (is_gap byte) (is_gap-map f byte) us) ∙ is_empty-map (map f) (after_leading (is_gap (λ x. byte (f x))) us)

  same-answered : (led c un e h k : Bool) (o : Option (Assignment A)) (d : Option Said) (r : Class A) (q : Class B) → HaveSameOffsets r q
      → HaveSameOffsets (answered (λ x. byte (f x)) led c un e h k o d r) (answered byte led c un e h k (map_assigned f o) d q)
  same-answered led c un true true k o d r q s = refl
  same-answered led c un true false k o d r q s = refl
  same-answered led c true false h k o d r q s = refl
  same-answered led c false false h k o d r q s = same-assign c o _ _ (same-or d _ _ (same-if (led || not k) Opaque r Opaque q refl s))

  same-plain : (led c unreadable : Bool) (us : List (List A)) → HaveSameOffsets (plain_class (λ x. byte (f x)) led c unreadable us) (plain_class byte led c unreadable (map (map f) us))
  same-plain led c unreadable us =
      let C = cut_text (λ x. byte (f x)) us in
      let D = directive c (word_texts (λ x. byte (f x)) C) in
      let N = is_all_blanks (λ x. byte (f x)) C in
      let H = list_any (is_hash (λ x. byte (f x))) us in
      let K = has_colon (λ x. byte (f x)) (head (λ x. byte (f x)) us) in
      let O = assignment (λ x. byte (f x)) C in
      let cut = cut_text-map f byte us in
      ap (located_class byte) (
      answered-same byte led c unreadable _ _ _ N H K _ (map_assigned f O) _ D (rule_class byte (map (map f) us))
      (ap (is_all_blanks byte) cut ∙ all_blanks-map C)
      (any-map (map f) (is_hash (λ x. byte (f x))) (is_hash byte) (is_hash-map f byte) us)
      (ap (has_colon byte) (head-map f byte us) ∙ has_colon-map f byte (head (λ x. byte (f x)) us))
      (ap (assignment byte) cut ∙ assignment-map f byte C) (ap (λ z. directive c (word_texts byte z)) cut ∙ ap (directive c) (word_texts-map f byte C))
      )
      ∙ same-answered led c unreadable N H K O D (rule_class (λ x. byte (f x)) us) (rule_class byte (map (map f) us)) (same-rule us)

  same-undefined : (led : Bool) (k : RuleFlag) (c unreadable : Bool) (us : List (List A)) → HaveSameOffsets (undefined_class (λ x. byte (f x)) led k c unreadable us) (undefined_class byte led k c unreadable (map (map f) us))
  same-undefined true Off c unreadable us = same-plain true c unreadable us
  same-undefined true Rule c unreadable us = refl
  same-undefined true Unknown c unreadable us = refl
  same-undefined false k c unreadable us = same-plain false c unreadable us

  -- the class of the images of units has the offsets of the class of the units
  class_at-map : (led : Bool) (defines : ℕ) (k : RuleFlag) (c unreadable : Bool) (us : List (List A))
      → located_class byte (class_at byte led defines k c unreadable (map (map f) us)) ≡ located_class (λ x. byte (f x)) (class_at (λ x. byte (f x)) led defines k c unreadable us)
  class_at-map led zero k c unreadable us = same-undefined led k c unreadable us
  class_at-map led (suc n) k c unreadable us = rw (word_texts-map f byte us) (same-said (body_class led (suc n) (word_texts (λ x. byte (f x)) us)))

-- the class of a line in a context, as the code has it, is that of its joined text
pub class_of-text : (context : Context) (line : List ℕ)
    → located_class joined_byte (class_of context line)
    ≡ text_class (is_prefix_led context.prefix line) context.defines context.flag (nat_lt 0 context.conditionals) (is_unreadable (line_cells line)) (joined_text (line_cells line))
class_of-text c l =
    let cs = line_cells l in
    rw (units-map joined_byte itself cs) (sym (class_at-map joined_byte itself (is_prefix_led c.prefix l) c.defines c.flag (nat_lt 0 c.conditionals) (is_unreadable cs) (units joined_byte cs)))
