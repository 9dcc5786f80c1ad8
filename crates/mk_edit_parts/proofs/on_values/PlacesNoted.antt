-- The places of a line that a change replaces, noted one by one.
use Rattle.std.proofs.Common.{◌≡◌, refl, sym, ap, ◌∙◌, arith, ℕ, List, [], ◌∷◌, ◌++◌, length, Option, Some, None}
use Rattle.std.specs.Prelude.{IfSome}
use Rattle.std.proofs.lemmas.List.{append-nil}
use Rattle.mk_lines.specs.Cells.{Cell}
use Rattle.mk_lines.specs.declared.split.Span.{Span}
use Rattle.mk_edit_parts.specs.LineChangePlaces.{AreNoted, text_places}
use Rattle.mk_edit_parts.specs.declared.line_change.Places.{Places}

ranges-none : {V : Type 0} (items : V → List Span) (o : Option V) (all : List Span) → IfSome o (λ r. items r ++ [] ≡ []) → IfSome o (λ r. items r ++ all ≡ all)
ranges-none items None all h = tt
ranges-none items (Some r) all h = ap (λ z. z ++ all) (sym (append-nil (items r)) ∙ h)

-- nothing is noted yet
pub noted-none : {A : _} (cs : List Cell) (all : List Span) (p : Places A) → AreNoted cs [] [] p → AreNoted cs all all p
noted-none cs all p h = record { count = omega (arith, h.count); bytes = omega (arith, h.bytes); ranges = ranges-none (λ r. r.items) p.ranges all h.ranges }

-- as many texts as offsets
pub places-number : (at n : ℕ) (is : List ℕ) → length (text_places at n is) ≡ length is
places-number at n [] = refl
places-number at n (i ∷ is) = omega (arith, places-number at n is)
