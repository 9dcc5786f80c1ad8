-- The line of an assignment with a `#` before it: it is one line as before, and a comment.
use Rattle.std.proofs.Common.{◌≡◌, refl, sym, ap, ◌∙◌, subst, ℕ, List, [], ◌∷◌, ◌++◌, Bool, false, reverse, Option}
use Rattle.std.proofs.lemmas.List.{reverse-append}
use Rattle.std.specs.Prelude.{◌==◌, nat_lt}
use Rattle.mk_lines.specs.Bytes.{ByteKind, LineFeed, CarriageReturn, Ordinary}
use Rattle.mk_lines.specs.PhysicalLines.{line_end, without_line_end}
use Rattle.mk_lines.specs.declared.ends.End.{End}
use Rattle.mk_lines.specs.declared.ends.End.TheVariants as ends
use Rattle.mk_lines.specs.Cells.{Cell, Byte, joined_byte, cells, line_cells}
use Rattle.mk_lines.specs.Units.{units, unit_step, unit_begins}
use Rattle.mk_lines.specs.Units.UnitState.{Between}
use Rattle.mk_lines.proofs.on_lists.CutLemmas.{continuation-start, one-piece}
use Rattle.mk_lines.proofs.on_lines.LineCut.{AtStart, line_step, line_begins}
use Rattle.mk_lines.proofs.on_lines.LineLemmas.{OneLine, Ends, EndsBefore, begins-always}
use Rattle.mk_lines.proofs.on_lines.LineEndLemmas.{FirstIsNot, KeepsApart, line_end-keeps_apart, without_line_end-append, without_line_end-line_end, state_after-start}
use Rattle.mk_lines.proofs.on_cells.CellsOfLine.{one_line-continues}
use Rattle.mk_lines.proofs.on_cells.LineCells.{one_line-not_empty}
use Rattle.mk_lines.proofs.on_units.UnitLemmas as unit_lemmas
use Rattle.mk_class.specs.Assignments.{Assignment}
use Rattle.mk_class.specs.RecipePrefix.{is_prefix_led}
use Rattle.mk_class.specs.Classes.Class.{Comment, Assign}
use Rattle.mk_class.specs.Contexts.{Context}
use Rattle.mk_class.specs.ClassTable.{is_unreadable, class_at, class_of}
use Rattle.mk_class.specs.declared.context.RuleFlag.{RuleFlag}
use Rattle.mk_class.specs.declared.context.RuleFlag.TheVariants.{Off, Rule, Unknown}
use Rattle.mk_class.proofs.on_classes.ClassLemmas.{class_at-assign}

-- ---- one line

-- an ordinary byte before a line
pub led-one_line : (l : List ℕ) → OneLine l → OneLine (35 ∷ l)
unfolding OneLine
led-one_line l o =
    let s = one_line-not_empty l o in
    let own : OneLine (s.0 ∷ s.1) = subst OneLine s.2 o in
    subst (λ z. OneLine (35 ∷ z)) (sym s.2) (one-piece line_step line_begins AtStart begins-always 35 (s.0 ∷ s.1) (one_line-continues s.0 s.1 own))

led-ends_text : (b : ℕ) (r : List ℕ) → Ends (b ∷ r) → Ends (35 ∷ b ∷ r)
unfolding Ends
led-ends_text b r h = sym (state_after-start b r) ∙ h

pub led-ends : (l : List ℕ) (below : List (List ℕ)) → OneLine l → EndsBefore l below → EndsBefore (35 ∷ l) below
led-ends l [] o h = tt
led-ends l (b ∷ below) o h =
    let s = one_line-not_empty l o in
    subst (λ z. Ends (35 ∷ z)) (sym s.2) (led-ends_text s.0 s.1 (subst Ends s.2 h))

-- ---- its cells

first_is_not-last : (k : ByteKind) (r : List ℕ) → (Ordinary ≡ k → ⊥) → FirstIsNot k r → FirstIsNot k (r ++ 35 ∷ [])
first_is_not-last k [] n h = n
first_is_not-last k (x ∷ r) n h = h

keeps_apart-last : (e : End) (r : List ℕ) → KeepsApart e r → KeepsApart e (r ++ 35 ∷ [])
keeps_apart-last ends.None r h = first_is_not-last LineFeed r (λ z. cc) h
keeps_apart-last ends.Lf r h = first_is_not-last CarriageReturn r (λ z. cc) h
keeps_apart-last ends.CrLf r h = tt

led-without_line_end : (l : List ℕ) → without_line_end (35 ∷ l) ≡ 35 ∷ without_line_end l
led-without_line_end l =
    let x = without_line_end l in
    let e = line_end l in
    let apart : KeepsApart e (reverse (35 ∷ x)) = subst (KeepsApart e) (sym (reverse-append (35 ∷ []) x)) (keeps_apart-last e (reverse x) (line_end-keeps_apart l)) in
    ap (λ z. without_line_end (35 ∷ z)) (sym (without_line_end-line_end l)) ∙ without_line_end-append (35 ∷ x) e apart

led-cells : (l : List ℕ) → line_cells (35 ∷ l) ≡ Byte 35 ∷ line_cells l
led-cells l = ap cells (led-without_line_end l)

led-units : (cs : List Cell) → units joined_byte (Byte 35 ∷ cs) ≡ (Byte 35 ∷ []) ∷ units joined_byte cs
led-units cs =
    ap (λ z. (Byte 35 ∷ z) ∷ units joined_byte cs)
    (continuation-start (unit_step joined_byte) (unit_begins joined_byte) Between (unit_lemmas.begins-always joined_byte) cs)

-- ---- its class

-- a line whose first unit is `#`
hash-class : (f : RuleFlag) (c unreadable : Bool) (us : List (List Cell)) → class_at joined_byte false 0 f c unreadable ((Byte 35 ∷ []) ∷ us) ≡ Comment
hash-class Off c unreadable us = refl
hash-class Rule c unreadable us = refl
hash-class Unknown c unreadable us = refl

-- the line of an assignment with a `#` before it is a comment, if a `#` is not the recipe prefix
pub led-comment : (c : Context) (l : List ℕ) (a : Assignment Cell) (p : Option ℕ) → class_of c l ≡ Assign a p → (35 == c.prefix) ≡ false → class_of c (35 ∷ l) ≡ Comment
led-comment c l a p h n =
    let cs = line_cells (35 ∷ l) in
    let flag = nat_lt 0 c.conditionals in
    let r = class_at-assign (is_prefix_led c.prefix l) c.defines c.flag flag (line_cells l) (units joined_byte (line_cells l)) a p h in
    let us : units joined_byte cs ≡ (Byte 35 ∷ []) ∷ units joined_byte (line_cells l) = ap (units joined_byte) (led-cells l) ∙ led-units (line_cells l) in
    ap (λ z. class_at joined_byte z c.defines c.flag flag (is_unreadable cs) (units joined_byte cs)) n
    ∙ (ap (λ z. class_at joined_byte false z c.flag flag (is_unreadable cs) (units joined_byte cs)) r.no_define
    ∙ (ap (class_at joined_byte false 0 c.flag flag (is_unreadable cs)) us ∙ hash-class c.flag flag (is_unreadable cs) (units joined_byte (line_cells l))))
