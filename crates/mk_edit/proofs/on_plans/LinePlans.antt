-- Plans of edits that replace a line, and of those that take lines out.
use Rattle.std.proofs.Common.{◌≡◌, sym, ap, ◌∙◌, subst, arith, ℕ, ◌+◌, ◌≤◌, List, [], ◌∷◌, ◌++◌, length, length-append, replicate, Option, Some}
use Rattle.std.specs.Prelude.{Ok}
use Rattle.mk_lines.specs.Pieces.{Replacement}
use Rattle.mk_class.specs.ClassedLines.{classed_lines}
use Rattle.mk_tree.specs.Documents.{IsFaithful, context_of}
use Rattle.mk_tree.specs.LineTexts.{line_in, StandingLine}
use Rattle.mk_tree.specs.LocatedLines.{LocatedLine, located_line, located_lines, located_text}
use Rattle.mk_edit_language.specs.Edits.{Edit}
use Rattle.mk_edit_language.specs.Stretches.{Stretch, this_line, touched_by}
use Rattle.mk_edit_language.specs.Costs.{cost, size}
use Rattle.mk_edit_language.specs.KeptLines.{edited_bytes, above_after}
use Rattle.mk_edit_language.specs.Refusals.{spans, text_after}
use Rattle.mk_edit_language.proofs.on_edits.EditedLineLemmas.{edited, put-there, taken-out}
use Rattle.mk_patch.specs.Moves.{Exchange, TakeOut, IsPlain}
use Rattle.mk_patch.proofs.on_moves.ShapeLemmas.{LeadTo, run-held, run-taken}
use Rattle.mk_patch.proofs.on_moves.TextLineLemmas.{plain-located, text_line-exchanged, text_run-taken_out}
use Rattle.mk_edit.specs.Planned.{IsPlanned, ended_by, ended_lines}
use Rattle.mk_edit.specs.PlannedMoves.{line_read_at, replacing_moves, CanReplace}
use Rattle.mk_edit.proofs.on_plans.PlanLemmas.{lead-planned, after-fits, faithful-length, read-at, touched-none_put, touched-place, removed-none_put, changes-one}

-- ---- a line replaced

-- A line of these bytes can be put in the place of the line at `at`, and the moves that do it are what is planned.
pub record IsReplaced (e : Edit) (ls : List LocatedLine) (at : ℕ) (m : List ℕ) : Type 0 where
  pub can : CanReplace ls at m
  pub costs : cost (located_text ls) e ≡ 1
  pub planned : IsPlanned e ls (replacing_moves ls at m)

pub line-replaced : (e : Edit) (ls : List LocatedLine) (rs : List Replacement) (s : StandingLine) (at : ℕ) (m : List ℕ) → IsFaithful ls → spans (located_text ls) e ≡ Ok rs
    → touched_by (classed_lines (located_text ls)) e ≡ Some (this_line s) → length s.above ≡ at → edited_bytes (located_text ls) e (this_line s) rs ≡ m ∷ [] → IsReplaced e ls at m
line-replaced e ls rs s at m f h p place b =
    let t = located_text ls in
    let new = line_in (context_of s.above) m in
    let E = edited t e rs (this_line s) p h in
    let P = put-there t e rs (this_line s) m p h b in
    let none = touched-none_put (classed_lines t) e (this_line s) p (omega arith) in
    let one = changes-one t e rs (this_line s) m p (omega arith) b in
    let ends : ended_lines ls e ≡ 0 = ap (ended_by ls) (touched-place (classed_lines t) e (this_line s) p ∙ none) in
    let after : classed_lines (text_after t e) ≡ s.above ++ new ∷ s.below = P.lines ∙ ap (λ (o : Option Stretch). above_after t o (this_line s) ++ new ∷ s.below) none in
    let read : line_read_at ls at m ≡ located_line new = read-at ls s.above (s.line ∷ s.below) at m E.before place in
    let moves : replacing_moves ls at m ≡ Exchange (length s.above) (located_line new) ∷ [] = ap (λ z. Exchange at z ∷ []) read ∙ ap (λ n. Exchange n (located_line new) ∷ []) (sym place) in
    let L : LeadTo (Exchange (length s.above) (located_line new) ∷ []) (located_lines (s.above ++ s.line ∷ s.below)) (located_lines (s.above ++ new ∷ s.below)) =
    text_line-exchanged s.above s.below s.line new E.gone_plain.0 P.plain (after-fits t e rs (s.above ++ new ∷ s.below) h after) in
    record {
      can = record { in_range = omega (arith, faithful-length ls (s.above ++ s.line ∷ s.below) f E.before, length-append s.above (s.line ∷ s.below), place); line = record { one = P.one; plain = subst IsPlain (sym read) (plain-located new P.plain) } };
      costs = one.cost_is;
      planned = lead-planned e ls rs (replacing_moves ls at m) (s.above ++ s.line ∷ s.below) (s.above ++ new ∷ s.below) f h E.before after (rw moves L) (omega (arith, one.cost_is, ends)) (omega (arith, one.size_is, ends));
    }

-- ---- lines taken out

-- `count` lines stand from a place on, and the moves that take them out are what is planned.
pub record IsTakenOut (e : Edit) (ls : List LocatedLine) (at count : ℕ) : Type 0 where
  pub in_range : at + count ≤ length ls
  pub costs : cost (located_text ls) e ≡ 0
  pub planned : IsPlanned e ls (replicate count (TakeOut at))

pub lines-taken_out : (e : Edit) (ls : List LocatedLine) (rs : List Replacement) (s : Stretch) (at count : ℕ) → IsFaithful ls → spans (located_text ls) e ≡ Ok rs
    → touched_by (classed_lines (located_text ls)) e ≡ Some s → length s.above ≡ at → length s.lines ≡ count → edited_bytes (located_text ls) e s rs ≡ [] → cost (located_text ls) e ≡ 0 → size (located_text ls) e ≡ count → IsTakenOut e ls at count
lines-taken_out e ls rs s at count f h p place number b costs changes =
    let t = located_text ls in
    let E = edited t e rs s p h in
    let none = removed-none_put t e rs s b in
    let ends : ended_lines ls e ≡ 0 = ap (ended_by ls) (touched-place (classed_lines t) e s p ∙ none) in
    let after : classed_lines (text_after t e) ≡ s.above ++ s.below = taken-out t e rs s p h b ∙ ap (λ (o : Option Stretch). above_after t o s ++ s.below) none in
    let moves : replicate count (TakeOut at) ≡ replicate (length s.lines) (TakeOut (length s.above)) = ap (λ n. replicate n (TakeOut at)) (sym number) ∙ ap (λ n. replicate (length s.lines) (TakeOut n)) (sym place) in
    let L = text_run-taken_out s.above s.lines s.below E.gone_plain in
    record {
      in_range = omega (arith, faithful-length ls (s.above ++ (s.lines ++ s.below)) f E.before, length-append s.above (s.lines ++ s.below), length-append s.lines s.below, place, number);
      costs = costs;
      planned =
          lead-planned e ls rs (replicate count (TakeOut at)) (s.above ++ (s.lines ++ s.below)) (s.above ++ s.below) f h E.before after (rw moves L)
          (omega (arith, run-held count at, costs, ends)) (omega (arith, run-taken count at, changes, ends));
    }
