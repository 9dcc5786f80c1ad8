-- The spans of each edit rise within the text and do not overlap.
use Rattle.std.proofs.Common.{◌≡◌, refl, sym, ap, ◌∙◌, subst, arith, ℕ, List, [], ◌∷◌, ◌++◌, true, false, length, length-append, ◌+◌, ◌≤◌, Option, Some, None, option_map}
use Rattle.std.proofs.lemmas.Bool.{eqb-true}
use Rattle.std.proofs.lemmas.List.{append-nil}
use Rattle.std.specs.Prelude.{Ok}
use Rattle.mk_lines.specs.PhysicalLines.{line_end, line_end_bytes, without_line_end}
use Rattle.mk_lines.proofs.on_lines.LineEndLemmas.{without_line_end-line_end}
use Rattle.mk_lines.specs.Pieces.{Replacement}
use Rattle.mk_class.specs.Classes.{is_recipe}
use Rattle.mk_class.specs.RecipePrefix.{is_prefix_led}
use Rattle.mk_class.specs.Arguments.{is_barred_byte}
use Rattle.mk_lines.specs.declared.ends.End.{End}
use Rattle.mk_lines.specs.declared.ends.End.TheVariants as ends
use Rattle.mk_class.specs.ClassedLines.{classed_lines}
use Rattle.mk_tree.specs.Documents.{text_of, context_of}
use Rattle.mk_tree.proofs.on_documents.LinesInText.{line-in_text, run-in_text}
use Rattle.mk_tree.specs.LineTexts.{StandingLine}
use Rattle.mk_edit_language.specs.Edits.{Site, One, Every, Edit, ChangeValue, ChangeLine, ChangePrereqs, AddLine, AddRecipe, SetRecipe, RemoveLines, SwitchLine, RenameTarget, ExchangeLines, EachLine}
use Rattle.mk_edit_language.specs.Addresses.{Variable, Rule, value_address, switch_address, found}
use Rattle.mk_edit_language.specs.Stretches.{Stretch, this_line, between, place_found, recipe_place, recipe_found, touched_by}
use Rattle.mk_edit_language.specs.NewLines.{new_line_span}
use Rattle.mk_edit_language.specs.ValueChanges.{value_spans, assignment_spans, change_spans, changed_line_spans}
use Rattle.mk_edit_language.specs.LineChanges.{line_change_spans}
use Rattle.mk_edit_language.specs.SwitchedLines.{switch_spans}
use Rattle.mk_edit_language.specs.LineRuns.{site_found}
use Rattle.mk_edit_language.specs.LineExchanges.{exchange_span}
use Rattle.mk_edit_language.specs.EditSpans.{removed_span, header_spans, word_spans, prereq_pieces, renamed_line_spans, recipe_span, where_found, spans_of}
use Rattle.mk_edit_language.specs.Refusals.{spans, text_by, text_after}
use Rattle.mk_edit_language.proofs.on_edits.Accepted.{accepted}
use Rattle.mk_edit_language.specs.RisingSpans.{Rise, IsReplacedAt}
use Rattle.mk_edit_language.proofs.on_edits.RisingSpanLemmas.{Rise-until, Rise-since, Rise-replaced}
use Rattle.mk_edit_language.proofs.on_edits.LineSpansRise.{spot-rises, rise-values, change-rises, line_change-rises, rise-header, prereq-length, rise-renamed, rise-changed, rise-all_lines}
use Rattle.mk_edit_language.proofs.on_recipes.RecipeClassLemmas.{recipe-stands}
use Rattle.mk_edit_language.proofs.on_lines.SpotLemmas.{recipe_found-is}
use Rattle.mk_edit_language.proofs.on_lines.PrefixLemmas.{CanBegin, context-can_begin}
use Rattle.mk_edit_language.proofs.on_edits.EditPlaces.{IsSpotOf, found-spot, touched-stretch}
use Rattle.mk_edit_language.proofs.on_line_runs.SitesFound.{site-stretch}
use Rattle.mk_edit_language.proofs.on_comments.SwitchedPieces.{switch-rises}
use Rattle.mk_edit_language.proofs.on_each_line.EachLineSpans.{each-rises}

-- ---- recipe lines

-- a line that begins with the prefix has a text
some-text : (p : ℕ) (l : List ℕ) → is_prefix_led p l ≡ true → CanBegin p → 1 ≤ length (without_line_end l)
some-text p [] h k = absurd (cc)
some-text p (b ∷ r) h k = go (without_line_end (b ∷ r)) (line_end (b ∷ r)) (without_line_end-line_end (b ∷ r)) (subst (λ z. is_barred_byte z ≡ false) (sym (eqb-true b p h)) k.not_barred)
  where
    go : (x : List ℕ) (e : End) → x ++ line_end_bytes e ≡ b ∷ r → is_barred_byte b ≡ false → 1 ≤ length x
    go (x ∷ xs) e i n = omega arith
    go [] ends.None i n = absurd (cc)
    go [] ends.Lf i n = absurd (let z : 10 ≡ b = cc in let w : is_barred_byte 10 ≡ false = subst (λ q. is_barred_byte q ≡ false) (sym z) n in cc)
    go [] ends.CrLf i n = absurd (let z : 13 ≡ b = cc in let w : is_barred_byte 13 ≡ false = subst (λ q. is_barred_byte q ≡ false) (sym z) n in cc)

-- the text of a recipe line
recipe-rises : (t c : List ℕ) (s : StandingLine) → IsSpotOf (classed_lines t) s → is_recipe s.line.class ≡ true
    → Rise (length (text_of s.above)) (length (text_of s.above) + length s.line.bytes) (recipe_span c s)
recipe-rises t c s h r =
    let P = line-in_text t s.above s.line s.below h in
    let C = context_of s.above in
    let stands = recipe-stands C s.line.bytes (ap is_recipe P.class ∙ r) in
    let text = some-text C.prefix s.line.bytes stands.is_led (context-can_begin s.above P.above_classed) in
    let whole : length s.line.bytes ≡ length (without_line_end s.line.bytes) + length (line_end_bytes (line_end s.line.bytes)) =
    ap length (sym (without_line_end-line_end s.line.bytes)) ∙ length-append (without_line_end s.line.bytes) (line_end_bytes (line_end s.line.bytes)) in
    (omega arith, omega (arith, text), omega (arith, whole))

-- ---- each edit

-- spans that rise within a stretch of lines
abbrev RiseWithin : Stretch → List Replacement → Type 0
RiseWithin s rs = Rise (length (text_of s.above)) (length (text_of s.above) + length (text_of s.lines)) rs

-- the spans of what is found rise within its stretch, if those of each thing that may be found do
within-found : {A : Type 0} (f : A → List Replacement) (g : A → Stretch) (o : Option A) → ((x : A) → o ≡ Some x → RiseWithin (g x) (f x)) → (s : Stretch) → option_map g o ≡ Some s → RiseWithin s (where_found f o)
within-found f g None h s e = absurd (cc)
within-found f g (Some x) h s e = let k : g x ≡ s = cc in subst (λ (z : Stretch). RiseWithin z (f x)) k (h x refl)

within-line : (s : StandingLine) (rs : List Replacement) → Rise (length (text_of s.above)) (length (text_of s.above) + length s.line.bytes) rs → RiseWithin (this_line s) rs
within-line s rs r = subst (λ q. Rise (length (text_of s.above)) (length (text_of s.above) + length q) rs) (sym (append-nil s.line.bytes)) r

-- the spans of an edit of one place rise within the lines that it touches
pub spans-within : (t : List ℕ) (e : Edit) (s : Stretch) → touched_by (classed_lines t) e ≡ Some s → RiseWithin s (spans_of t (classed_lines t) e)
spans-within t (ChangeValue (One nth) n c) s h =
    let a = value_address nth n c in
    within-found (value_spans (change_spans c)) this_line (found (classed_lines t) a)
    (λ x i. within-line x (value_spans (change_spans c) x) (spot-rises t x (assignment_spans (change_spans c)) (found-spot (classed_lines t) a x i) (rise-values (change_spans c) (change-rises c)))) s h
spans-within t (ChangeLine nth n c) s h =
    let a = Variable nth n in
    within-found (value_spans (line_change_spans c)) this_line (found (classed_lines t) a)
    (λ x i. within-line x (value_spans (line_change_spans c) x) (spot-rises t x (assignment_spans (line_change_spans c)) (found-spot (classed_lines t) a x i) (rise-values (line_change_spans c) (line_change-rises c)))) s h
spans-within t (ChangePrereqs nth g c) s h =
    let a = Rule nth g in
    within-found (word_spans (prereq_pieces c)) this_line (found (classed_lines t) a)
    (λ x i. within-line x (word_spans (prereq_pieces c) x) (spot-rises t x (header_spans (prereq_pieces c)) (found-spot (classed_lines t) a x i) (rise-header (prereq_pieces c) (prereq-length c)))) s h
spans-within t (AddLine p l) s h = within-found (new_line_span t (AddLine p l)) between (place_found (classed_lines t) p) (λ x i. (omega arith, omega arith, omega arith)) s h
spans-within t (AddRecipe nth g p c) s h = within-found (new_line_span t (AddRecipe nth g p c)) between (recipe_place (classed_lines t) nth g p) (λ x i. (omega arith, omega arith, omega arith)) s h
spans-within t (SetRecipe nth g w c) s h =
    within-found (recipe_span c) this_line (recipe_found (classed_lines t) nth g w)
    (λ x i. let r = recipe_found-is (classed_lines t) nth g w x i in within-line x (recipe_span c x) (recipe-rises t c x r.whole r.passes)) s h
spans-within t (RemoveLines r) s h = subst (λ (o : Option Stretch). RiseWithin s (where_found removed_span o)) (sym h) (omega arith, omega arith, omega arith)
spans-within t (SwitchLine w nth n) s h =
    within-found (switch_spans w) this_line (found (classed_lines t) (switch_address w nth n))
    (λ x i. within-line x (switch_spans w x) (switch-rises w (length (text_of x.above)) x.line.bytes)) s h
spans-within t (ChangeValue Every n c) s h = absurd (cc)
spans-within t (RenameTarget o n) s h = absurd (cc)
spans-within t (ExchangeLines q ts) s h = absurd (cc)
spans-within t (EachLine e) s h = absurd (cc)

-- so they rise within the text
rise-touched : (t : List ℕ) (rs : List Replacement) (s : Stretch) → classed_lines t ≡ s.above ++ (s.lines ++ s.below) → RiseWithin s rs → Rise 0 (length t) rs
rise-touched t rs s h r =
    let at = length (text_of s.above) in
    let n = length (text_of s.lines) in
    let e : length t ≡ at + (n + length (text_of s.below)) =
    ap length (run-in_text t s.above s.lines s.below h).text ∙ (length-append (text_of s.above) (text_of s.lines ++ text_of s.below) ∙ ap (λ z. at + z) (length-append (text_of s.lines) (text_of s.below))) in
    Rise-since 0 at (length t) rs (Rise-until at (at + n) (length t) rs r (omega (arith, e))) (omega arith)

-- an edit of one place that touches no lines has no spans
no-spans : {A B : Type 0} (f : A → List Replacement) (g : A → B) (o : Option A) → option_map g o ≡ None → where_found f o ≡ []
no-spans f g None e = refl
no-spans f g (Some x) e = absurd (cc)

rise-one_place : (t : List ℕ) (e : Edit) → (touched_by (classed_lines t) e ≡ None → spans_of t (classed_lines t) e ≡ []) → Rise 0 (length t) (spans_of t (classed_lines t) e)
rise-one_place t e none = go (touched_by (classed_lines t) e) refl
  where
    go : (o : Option Stretch) → touched_by (classed_lines t) e ≡ o → Rise 0 (length t) (spans_of t (classed_lines t) e)
    go None h = subst (Rise 0 (length t)) (sym (none h)) (omega arith)
    go (Some s) h = rise-touched t _ s (touched-stretch (classed_lines t) e s h) (spans-within t e s h)

-- the span of whole lines rises within the text
rise-exchanged : (t : List ℕ) (site : Site) (ts : List (List ℕ)) → Rise 0 (length t) (spans_of t (classed_lines t) (ExchangeLines site ts))
rise-exchanged t site ts = go (site_found (classed_lines t) site) refl
  where
    go : (o : Option Stretch) → site_found (classed_lines t) site ≡ o → Rise 0 (length t) (where_found (exchange_span t ts) o)
    go None h = omega arith
    go (Some s) h = rise-touched t (exchange_span t ts s) s (site-stretch (classed_lines t) site s h) (omega arith, omega arith, omega arith)

-- the spans of each edit rise within the text
pub spans-rise : (t : List ℕ) (e : Edit) → Rise 0 (length t) (spans_of t (classed_lines t) e)
spans-rise t (ChangeValue (One nth) n c) = rise-one_place t (ChangeValue (One nth) n c) (no-spans (value_spans (change_spans c)) this_line (found (classed_lines t) (value_address nth n c)))
spans-rise t (ChangeLine nth n c) = rise-one_place t (ChangeLine nth n c) (no-spans (value_spans (line_change_spans c)) this_line (found (classed_lines t) (Variable nth n)))
spans-rise t (ChangePrereqs nth g c) = rise-one_place t (ChangePrereqs nth g c) (no-spans (word_spans (prereq_pieces c)) this_line (found (classed_lines t) (Rule nth g)))
spans-rise t (AddLine p l) = rise-one_place t (AddLine p l) (no-spans (new_line_span t (AddLine p l)) between (place_found (classed_lines t) p))
spans-rise t (AddRecipe nth g p c) = rise-one_place t (AddRecipe nth g p c) (no-spans (new_line_span t (AddRecipe nth g p c)) between (recipe_place (classed_lines t) nth g p))
spans-rise t (SetRecipe nth g w c) = rise-one_place t (SetRecipe nth g w c) (no-spans (recipe_span c) this_line (recipe_found (classed_lines t) nth g w))
spans-rise t (RemoveLines r) = rise-one_place t (RemoveLines r) (ap (where_found removed_span))
spans-rise t (SwitchLine w nth n) = rise-one_place t (SwitchLine w nth n) (no-spans (switch_spans w) this_line (found (classed_lines t) (switch_address w nth n)))
spans-rise t (ChangeValue Every n c) = rise-all_lines (changed_line_spans n c) (rise-changed n c) t
spans-rise t (RenameTarget o n) = rise-all_lines (renamed_line_spans o n) (rise-renamed o n) t
spans-rise t (ExchangeLines s ts) = rise-exchanged t s ts
spans-rise t (EachLine e) = each-rises t e

-- The law: of an accepted edit the spans rise within the text, and the bytes outside them are as before.
pub only_spans-replaced : (t : List ℕ) (e : Edit) (rs : List Replacement) → spans t e ≡ Ok rs → IsReplacedAt t (text_after t e) rs
only_spans-replaced t e rs h =
    let r : Rise 0 (length t) rs = subst (Rise 0 (length t)) (accepted t e rs h).spans_are (spans-rise t e) in
    subst (λ z. IsReplacedAt t z rs) (sym (ap (text_by t) h)) (Rise-replaced t rs r)
