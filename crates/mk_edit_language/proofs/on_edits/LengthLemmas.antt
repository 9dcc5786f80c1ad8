-- The length of a text with replacements made.
use Rattle.std.proofs.Common.{◌≡◌, refl, ap, ◌∙◌, subst, arith, ℕ, List, [], ◌∷◌, ◌++◌, length, length-append, take, drop, ◌+◌, ◌-◌, ◌≤◌, None}
use Rattle.std.proofs.lemmas.List.{length-take-le, length-drop}
use Rattle.std.proofs.lemmas.Bool.{ltb-false}
use Rattle.std.specs.Prelude.{Ok}
use Rattle.mk_lines.specs.Limits.{max_text}
use Rattle.mk_lines.specs.Pieces.{Replacement, replaced}
use Rattle.mk_tree.specs.LocatedLines.{size_of}
use Rattle.mk_tree.specs.Documents.{document_lines}
use Rattle.mk_tree.proofs.Reading.{size_of-document}
use Rattle.mk_edit_language.specs.Edits.{Edit}
use Rattle.mk_edit_language.specs.LineCauses.{too_long}
use Rattle.mk_edit_language.proofs.on_edits.Accepted.{accepted, where_holds-none}
use Rattle.mk_edit_language.specs.Lengths.{bytes_taken, bytes_put}
use Rattle.mk_edit_language.specs.Refusals.{spans, text_by, text_after}
use Rattle.mk_edit_language.specs.RisingSpans.{Rise}
use Rattle.mk_edit_language.proofs.on_edits.RisingSpanLemmas.{Rise-from_to}
use Rattle.mk_edit_language.proofs.on_edits.SpansRise.{only_spans-replaced}
use Rattle.mk_edit_language.specs.declared.refusal.Refusal.TheVariants.{TooLong}

-- the length, if the replacements rise within the text; the text begins at this offset
pub length-replaced : (a b : ℕ) (t : List ℕ) (rs : List Replacement) → Rise a b rs → b ≡ a + length t → length (replaced a t rs) + bytes_taken rs ≡ length t + bytes_put rs
length-replaced a b t [] h k = refl
length-replaced a b t (r ∷ rs) h k =
    let n = r.start - a in
    let m = r.end - a in
    let last : r.end ≤ b = Rise-from_to r.end b rs h.2 in
    let front : length (take n t) ≡ n = length-take-le n t (omega (arith, h.0, h.1, last, k)) in
    let left : length (drop m t) ≡ length t - m = length-drop m t in
    let end : b ≡ r.end + length (drop m t) = omega (arith, h.0, h.1, last, k, left) in
    let rest = length-replaced r.end b (drop m t) rs h.2 end in
    let whole : length (replaced a t (r ∷ rs)) ≡ length (take n t) + (length r.new + length (replaced r.end (drop m t) rs)) =
    length-append (take n t) (r.new ++ replaced r.end (drop m t) rs) ∙ ap (λ z. length (take n t) + z) (length-append r.new (replaced r.end (drop m t) rs)) in
    omega (arith, whole, front, left, rest, h.0, h.1, last, k)

-- the length of the text after an accepted edit
pub length-after : (t : List ℕ) (e : Edit) (rs : List Replacement) → spans t e ≡ Ok rs → length (text_after t e) + bytes_taken rs ≡ length t + bytes_put rs
length-after t e rs h =
    let R = only_spans-replaced t e rs h in
    ap (λ q. length (text_by t q) + bytes_taken rs) h ∙ length-replaced 0 (length t) t rs R.rise (omega arith)

-- ---- documents

-- the size of a document after an accepted edit is within the limit
pub size-fits : (t : List ℕ) (e : Edit) (rs : List Replacement) → spans t e ≡ Ok rs → size_of (document_lines (text_after t e)) ≤ max_text
size-fits t e rs h =
    let A = accepted t e rs h in
    let kept : too_long t rs ≡ None = subst (λ (q : List Replacement). too_long t q ≡ None) A.spans_are A.not_long in
    let short : length (replaced 0 t rs) ≤ max_text = ltb-false max_text (length (replaced 0 t rs)) (where_holds-none _ TooLong kept) in
    omega (arith, short, size_of-document (text_after t e), ap (λ q. length (text_by t q)) h)
