-- Lines of a text moved: the shapes of patches, if the lines of a document are those of a text.
use Rattle.std.proofs.Common.{◌≡◌, refl, sym, ap, ◌∙◌, arith, ℕ, ◌+◌, ◌<◌, ◌≤◌, List, [], ◌∷◌, ◌++◌, true, not, length, replicate}
use Rattle.std.proofs.lemmas.List.{map-append, length-map}
use Rattle.std.proofs.lemmas.Bool.{not-true}
use Rattle.mk_lines.specs.Limits.{max_text}
use Rattle.mk_lines.specs.Cells.{Cell, joined_byte}
use Rattle.mk_lines.specs.PhysicalLines.{without_line_end}
use Rattle.mk_class.specs.Classes.{Class, is_conditional}
use Rattle.mk_class.specs.Classes.Class.{Endef, Body, Recipe, Opaque, Blank, Comment, Assign, DefineHead, If, Else, Endif, Directive, TargetAssign, Rough, Header}
use Rattle.mk_class.specs.LocatedClasses.{located_class}
use Rattle.mk_class.specs.ClassedLines.{ClassedLine}
use Rattle.mk_tree.specs.LocatedLines.{located_line, located_lines, size_of, is_conditional_located}
use Rattle.mk_tree.specs.Documents.{AreUnconditional}
use Rattle.mk_patch.specs.Moves.{PutIn, TakeOut, Exchange, SwapEnd, IsPlain}
use Rattle.mk_patch.proofs.on_moves.ShapeLemmas.{LeadTo, same-lead, ArePlain, put_in-leads, exchange-leads, ended-put_in-leads, run-leads}

-- ---- lines of no conditional, as a document shows them

conditional-located : (k : Class Cell) → is_conditional_located (located_class joined_byte k) ≡ is_conditional k
conditional-located Endef = refl
conditional-located (Body d) = refl
conditional-located Recipe = refl
conditional-located Opaque = refl
conditional-located Blank = refl
conditional-located Comment = refl
conditional-located (Assign a p) = refl
conditional-located (DefineHead p) = refl
conditional-located If = refl
conditional-located Else = refl
conditional-located Endif = refl
conditional-located Directive = refl
conditional-located (TargetAssign t) = refl
conditional-located Rough = refl
conditional-located (Header x) = refl

pub plain-located : (l : ClassedLine) → not (is_conditional l.class) ≡ true → IsPlain (located_line l)
plain-located l h = conditional-located l.class ∙ not-true (is_conditional l.class) h

plain-located_lines : (ls : List ClassedLine) → AreUnconditional ls → ArePlain (located_lines ls)
plain-located_lines [] u = tt
plain-located_lines (l ∷ ls) u = (plain-located l u.0, plain-located_lines ls u.1)

-- ---- the shapes

located-append : (a b : List ClassedLine) → located_lines a ++ located_lines b ≡ located_lines (a ++ b)
located-append a b = sym (map-append located_line a b)

located-length : (a : List ClassedLine) → length (located_lines a) ≡ length a
located-length a = length-map a located_line

few-located : (a b : List ClassedLine) → size_of (located_lines (a ++ b)) ≤ max_text → size_of (located_lines a ++ located_lines b) ≤ max_text
few-located a b h = rw (located-append a b) h

-- a line put in between lines, or after lines that end
pub text_line-put_in : (above below : List ClassedLine) (l : ClassedLine) → not (is_conditional l.class) ≡ true → size_of (located_lines (above ++ l ∷ below)) ≤ max_text
    → LeadTo (PutIn (length above) (located_line l) ∷ []) (located_lines (above ++ below)) (located_lines (above ++ l ∷ below))
text_line-put_in above below l u few =
    let h = put_in-leads (located_lines above) (located_lines below) (located_line l) (length above) (sym (located-length above)) (plain-located l u) (few-located above (l ∷ below) few) in
    same-lead _ _ _ _ _ _ refl (located-append above below) (located-append above (l ∷ below)) h

-- a line exchanged
pub text_line-exchanged : (above below : List ClassedLine) (old new : ClassedLine) → not (is_conditional old.class) ≡ true → not (is_conditional new.class) ≡ true
    → size_of (located_lines (above ++ new ∷ below)) ≤ max_text → LeadTo (Exchange (length above) (located_line new) ∷ []) (located_lines (above ++ old ∷ below)) (located_lines (above ++ new ∷ below))
text_line-exchanged above below old new u v few =
    let h =
    exchange-leads (located_lines above) (located_lines below) (located_line old) (located_line new) (length above) (sym (located-length above)) (plain-located old u) (plain-located new v)
    (few-located above (new ∷ below) few) in
    same-lead _ _ _ _ _ _ refl (located-append above (old ∷ below)) (located-append above (new ∷ below)) h

-- a last line that gets other bytes of the same text, and then a line put in at the end
pub text_line-put_in_ended : (above : List ClassedLine) (last l : ClassedLine) (b : List ℕ) (at : ℕ) → at ≡ length above + 1 → 0 < length b → without_line_end b ≡ without_line_end last.bytes
    → not (is_conditional l.class) ≡ true → size_of (located_lines (above ++ record last { bytes = b } ∷ l ∷ [])) ≤ max_text
    → LeadTo (SwapEnd b ∷ PutIn at (located_line l) ∷ []) (located_lines (above ++ last ∷ [])) (located_lines (above ++ record last { bytes = b } ∷ l ∷ []))
text_line-put_in_ended above last l b at e some same u few =
    let h =
    ended-put_in-leads (located_lines above) (located_line last) (located_line l) b at (omega (arith, located-length above, e)) some same (plain-located l u)
    (few-located above (record last { bytes = b } ∷ l ∷ []) few) in
    same-lead _ _ _ _ _ _ refl (located-append above (last ∷ [])) (located-append above (record last { bytes = b } ∷ l ∷ [])) h

-- a run of lines taken out
pub text_run-taken_out : (above run below : List ClassedLine) → AreUnconditional run
    → LeadTo (replicate (length run) (TakeOut (length above))) (located_lines (above ++ (run ++ below))) (located_lines (above ++ below))
text_run-taken_out above run below u =
    let h = run-leads (located_lines above) (located_lines run) (located_lines below) (length above) (sym (located-length above)) (plain-located_lines run u) in
    let n : replicate (length (located_lines run)) (TakeOut (length above)) ≡ replicate (length run) (TakeOut (length above)) = ap (λ k. replicate k (TakeOut (length above))) (located-length run) in
    let a : located_lines above ++ (located_lines run ++ located_lines below) ≡ located_lines (above ++ (run ++ below)) = ap (λ z. located_lines above ++ z) (located-append run below) ∙ located-append above (run ++ below) in
    same-lead _ _ _ _ _ _ n a (located-append above below) h
