-- The parts of a line, by its class, are of the line: they are no longer than it.
use Rattle.std.proofs.Common.{◌≡◌, refl, sym, ap, ◌∙◌, arith, ℕ, zero, suc, List, [], ◌++◌, Bool, true, false, not, ◌||◌, cond, length, length-append, ◌+◌, ◌≤◌, Option, Some, None}
use Rattle.std.specs.List.{list_any}
use Rattle.std.specs.Prelude.{nat_lt}
use Rattle.mk_lines.specs.Lists.{concat}
use Rattle.mk_lines.proofs.on_lists.ListLemmas.{concat-append, leading-after_leading}
use Rattle.mk_lines.specs.PhysicalLines.{line_end, line_end_bytes, without_line_end}
use Rattle.mk_lines.proofs.on_lines.LineEndLemmas.{without_line_end-line_end}
use Rattle.mk_lines.specs.Cells.{Cell, joined_byte, raw_text, line_cells}
use Rattle.mk_lines.proofs.on_cells.CellLemmas.{raw_text-append, raw_text-cells}
use Rattle.mk_lines.specs.Units.{units}
use Rattle.mk_lines.proofs.on_units.UnitLemmas.{concat-units}
use Rattle.mk_class.specs.Texts.{word_texts}
use Rattle.mk_class.specs.Symbols.{is_hash}
use Rattle.mk_class.specs.CutTexts.{cut_text, comment, head, is_no_hash}
use Rattle.mk_class.specs.Assignments.{Assignment, assignment}
use Rattle.mk_class.proofs.on_assignments.AssignmentsWhole.{assignment_units, assignment-is}
use Rattle.mk_class.specs.Separators.{Separated, separated, has_colon, takes_assignment}
use Rattle.mk_class.specs.Headers.{header, is_rough, header_units}
use Rattle.mk_class.proofs.on_headers.HeadersWhole.{header-whole, separated-whole}
use Rattle.mk_class.specs.Keywords.{first_keyword}
use Rattle.mk_class.specs.Classes.{Class, Said, class_said}
use Rattle.mk_class.specs.Classes.Class.{Assign, TargetAssign, Header, Opaque, Rough, Comment, Blank}
use Rattle.mk_class.specs.RecipePrefix.{is_prefix_led}
use Rattle.mk_class.specs.Contexts.{Context}
use Rattle.mk_class.specs.ClassTable.{class_of, class_at, define_class, header_class, target_class, rule_class, assign_class, or_class, is_all_blanks, is_unreadable, plain_class, directive}
use Rattle.mk_class.specs.declared.context.RuleFlag.{RuleFlag}
use Rattle.mk_class.specs.declared.context.RuleFlag.TheVariants.{Off, Rule, Unknown}
use Rattle.mk_class.specs.PartOffsets.{raw_width}

-- the units of the parts that a class tells of
abbrev pub part_units : Class Cell → List (List Cell)
part_units (Assign a p) = assignment_units a
part_units (TargetAssign t) = t.targets
part_units (Header h) = header_units h
part_units k = []

-- these units have at most as many raw bytes as a line's units
abbrev AreWithin : List (List Cell) → Class Cell → Type 0
AreWithin us k = raw_width (part_units k) ≤ raw_width us

-- the raw bytes of two runs of units
pub raw_width-append : (a b : List (List Cell)) → raw_width (a ++ b) ≡ raw_width a + raw_width b
raw_width-append a b = ap (λ z. length (raw_text z)) (concat-append a b) ∙ (ap length (raw_text-append (concat a) (concat b)) ∙ length-append (raw_text (concat a)) (raw_text (concat b)))

within-cut : (us : List (List Cell)) → raw_width (cut_text joined_byte us) ≤ raw_width us
within-cut us =
    let e : raw_width us ≡ raw_width (cut_text joined_byte us) + raw_width (comment joined_byte us) =
    ap raw_width (sym (leading-after_leading (is_no_hash joined_byte) us)) ∙ raw_width-append (cut_text joined_byte us) (comment joined_byte us) in
    omega (arith, e)

short-cond : (us : List (List Cell)) (b : Bool) (x y : Class Cell) → AreWithin us x → AreWithin us y → AreWithin us (cond b x y)
short-cond us true x y h k = h
short-cond us false x y h k = k

short-assign : (us : List (List Cell)) (c : Bool) (o : Option (Assignment Cell)) (x : Class Cell) → assignment joined_byte (cut_text joined_byte us) ≡ o → AreWithin us x → AreWithin us (assign_class joined_byte c o x)
short-assign us c None x e h = h
short-assign us c (Some a) x e h =
    let w : raw_width (assignment_units a) ≡ raw_width (cut_text joined_byte us) = ap raw_width (assignment-is joined_byte (cut_text joined_byte us) a e).whole in
    let k = within-cut us in
    omega (arith, w, k)

short-target : (us : List (List Cell)) (s : Separated Cell) (o : Option (Assignment Cell)) (x : Class Cell) → raw_width s.targets ≤ raw_width us → AreWithin us x → AreWithin us (target_class s o x)
short-target us s None x n h = h
short-target us s (Some a) x n h = n

short-rule : (us : List (List Cell)) → AreWithin us (rule_class joined_byte us)
short-rule us =
    let w : raw_width (header_units (header joined_byte us)) ≡ raw_width us = ap raw_width (header-whole joined_byte us) in
    let cut = cut_text joined_byte us in
    let s = separated joined_byte cut in
    let own : AreWithin us (header_class joined_byte us) = short-cond us (is_rough joined_byte (head joined_byte us) (header joined_byte us)) Rough (Header (header joined_byte us)) (omega arith) (omega (arith, w)) in
    let t : raw_width cut ≡ raw_width s.targets + raw_width (s.colons ++ s.rest) = ap raw_width (sym (separated-whole joined_byte cut)) ∙ raw_width-append s.targets (s.colons ++ s.rest) in
    let k = within-cut us in
    short-cond us (takes_assignment s.separator) (target_class s (assignment joined_byte s.rest) (header_class joined_byte us)) (header_class joined_byte us) (short-target us s (assignment joined_byte s.rest) (header_class joined_byte us) (omega (arith, t, k)) own) own

short-said : (us : List (List Cell)) (s : Said) → 0 ≤ raw_width us → AreWithin us (class_said s)
short-said us Said.Endef z = z
short-said us (Said.Body n) z = z
short-said us (Said.DefineHead p) z = z
short-said us Said.If z = z
short-said us Said.Else z = z
short-said us Said.Endif z = z
short-said us Said.Directive z = z

short-or : (us : List (List Cell)) (o : Option Said) (x : Class Cell) → 0 ≤ raw_width us → AreWithin us x → AreWithin us (or_class o x)
short-or us None x z h = h
short-or us (Some s) x z h = short-said us s z

short-plain : (led c : Bool) (cs : List Cell) (us : List (List Cell)) → AreWithin us (plain_class joined_byte led c (is_unreadable cs) us)
short-plain led c cs us =
    let z : 0 ≤ raw_width us = omega arith in
    short-cond us (is_all_blanks joined_byte (cut_text joined_byte us)) _ _ (short-cond us (list_any (is_hash joined_byte) us) Comment Blank z z) (
    short-cond us (is_unreadable cs) Opaque _ z (
    short-assign us c (assignment joined_byte (cut_text joined_byte us)) _ refl (
    short-or us (directive c (word_texts joined_byte (cut_text joined_byte us))) _ z (
    short-cond us (led || not (has_colon joined_byte (head joined_byte us))) Opaque (rule_class joined_byte us) z (short-rule us)))))

short-at : (led : Bool) (n : ℕ) (f : RuleFlag) (c : Bool) (cs : List Cell) (us : List (List Cell)) → AreWithin us (class_at joined_byte led n f c (is_unreadable cs) us)
short-at true (suc n) f c cs us = omega arith
short-at false (suc n) f c cs us = short-said us (define_class (first_keyword (word_texts joined_byte us)) (suc n)) (omega arith)
short-at true zero Rule c cs us = omega arith
short-at true zero Unknown c cs us = omega arith
short-at true zero Off c cs us = short-plain true c cs us
short-at false zero Off c cs us = short-plain false c cs us
short-at false zero Rule c cs us = short-plain false c cs us
short-at false zero Unknown c cs us = short-plain false c cs us

-- the cells of a line are no longer than it
pub cells-within : (l : List ℕ) → length (raw_text (line_cells l)) ≤ length l
cells-within l =
    let e : length l ≡ length (raw_text (line_cells l)) + length (line_end_bytes (line_end l)) =
    ap length (sym (without_line_end-line_end l) ∙ ap (λ z. z ++ line_end_bytes (line_end l)) (sym (raw_text-cells (without_line_end l))))
    ∙ length-append (raw_text (line_cells l)) (line_end_bytes (line_end l)) in
    omega (arith, e)

-- the parts of a line are no longer than it
pub parts-within : (c : Context) (l : List ℕ) → raw_width (part_units (class_of c l)) ≤ length l
parts-within c l =
    let us = units joined_byte (line_cells l) in
    let s : raw_width (part_units (class_of c l)) ≤ raw_width us = short-at (is_prefix_led c.prefix l) c.defines c.flag (nat_lt 0 c.conditionals) (line_cells l) us in
    let e : raw_width us ≡ length (raw_text (line_cells l)) = ap (λ z. length (raw_text z)) (concat-units joined_byte (line_cells l)) in
    let w = cells-within l in
    omega (arith, s, e, w)
