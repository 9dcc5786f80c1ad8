-- What an edit of whole lines does to the lines of a makefile, in bytes.
use Rattle.std.proofs.Common.{◌≡◌, refl, sym, ap, ◌∙◌, subst, ℕ, zero, suc, true, false, List, [], ◌∷◌, ◌++◌, map, length, Option, Some, None, ◌||◌}
use Rattle.std.specs.Prelude.{Ok, Vec, option_map, unwrap_or}
use Rattle.mk_lines.specs.PhysicalLines.{file_line_end}
use Rattle.mk_lines.specs.LogicalLines.{logical_lines}
use Rattle.mk_lines.specs.Pieces.{Replacement}
use Rattle.mk_class.specs.ListTests.{is_empty}
use Rattle.mk_class.specs.ClassedLines.{ClassedLine, classed_lines}
use Rattle.mk_tree.specs.LineTexts.{StandingLine, context_of, bytes_of}
use Rattle.mk_tree.specs.NewLineEnds.{above_ended}
use Rattle.mk_tree.specs.RecipeLines.{recipe_run}
use Rattle.mk_tree.proofs.on_documents.LinesInText.{bytes_of-classed, line-in_text, run-in_text}
use Rattle.mk_edit_language.specs.Edits as edits
use Rattle.mk_edit_language.specs.Edits.{ExchangeLines}
use Rattle.mk_edit_language.specs.EditViews.{place_of, site_of, lines_of}
use Rattle.mk_edit_language.specs.Spots.{nth_of}
use Rattle.mk_class.specs.Arguments.{is_target}
use Rattle.mk_edit_language.specs.Addresses.{Variable, LastVariable, Rule, candidates, is_rule_for}
use Rattle.mk_edit_language.specs.Stretches.{Stretch, this_line, before_line, after_line, after_rule}
use Rattle.mk_edit_language.specs.RuleRuns.{run_below, run_or_header, under_header}
use Rattle.mk_edit_language.specs.LineRuns.{is_block, block_lines, runs, before_run, after_run, site_number, site_stretches, site_found}
use Rattle.mk_edit_language.specs.LineExchanges.{block_text, new_lines}
use Rattle.mk_edit_language.specs.EditSpans.{spans_of}
use Rattle.mk_edit_language.specs.ArgumentCauses.{first_failed, is_place, exchange_tests}
use Rattle.mk_edit_language.specs.LineCauses.{follows_open_line}
use Rattle.mk_edit_language.specs.Refusals.{first_cause, causes, spans, text_after}
use Rattle.mk_edit_language.specs.declared.edit.Site.{Site}
use Rattle.mk_edit_language.specs.declared.edit.Site.TheVariants as site
use Rattle.mk_edit_language.specs.declared.edit.Edit.TheVariants as edit
use Rattle.mk_edit_language.specs.declared.refusal.Field.TheVariants as field
use Rattle.mk_edit_language.specs.declared.refusal.Refusal.TheVariants.{OpenLine}
use Rattle.mk_edit_language.proofs.on_edits.Accepted.{all_exchange_causes, exchange-causes, no-cause, unrefused, where_holds-none, two-passed}
use Rattle.mk_edit_language.proofs.on_line_runs.BlockTexts.{block-some}
use Rattle.mk_edit_language.proofs.on_line_runs.LinesExchanged.{lines-exchanged}
use Rattle.mk_edit_language.proofs.on_line_runs.SitesFound.{picked-of_map}
use Rattle.mk_edit_language.proofs.on_lines.SpotLemmas.{picked-is}
use Rattle.mk_edit_parts.specs.SitesFound.{IsOfNew}
use Rattle.mk_session.specs.Statement.{Lines, Headed, Say, Become, Does}
use Rattle.mk_session.proofs.on_statement.LineWords.{rule-names}
use Rattle.mk_session.proofs.on_statement.PlacedLines.{Nothing, above-new}
use Rattle.mk_session.proofs.on_statement.SaidLines.{say-block, picked-nth, run-said, new-said}

-- ---- an accepted edit of whole lines

-- its fields pass their tests, and its new lines follow no open line
record IsExchange (t : List ℕ) (s : edits.Site) (ts : List (List ℕ)) : Type 0 where
  fields : first_failed (exchange_tests s ts) ≡ None
  closed : follows_open_line (site_found (classed_lines t) s) ≡ false

exchange : (t : List ℕ) (s : edits.Site) (ts : List (List ℕ)) (rs : List Replacement) → spans t (ExchangeLines s ts) ≡ Ok rs → IsExchange t s ts
exchange t s ts rs h =
    let ls = classed_lines t in
    let e = ExchangeLines s ts in
    let u = unrefused (first_cause (causes t ls e)) (spans_of t ls e) rs h in
    let n = no-cause (all_exchange_causes t ls s ts) (sym (exchange-causes t ls s ts) ∙ u.0) in
    record { fields = n.0; closed = where_holds-none _ OpenLine n.1.1.1.1.1.1.1.1.1.0 }

-- the lines of its site become the new lines
lines-exchange : (Old New : Lines → Lines → Type 0) (t : List ℕ) (s : edits.Site) (ts : List (List ℕ)) (rs : List Replacement) → spans t (ExchangeLines s ts) ≡ Ok rs
    → ((r : Stretch) → site_found (classed_lines t) s ≡ Some r → Old (bytes_of r.above) (bytes_of r.lines)) → ((r : Stretch) → New (bytes_of r.above) (logical_lines (block_text t ts r)))
    → Become Old New (logical_lines t) (logical_lines (text_after t (ExchangeLines s ts)))
lines-exchange Old New t s ts rs h old new =
    let u = text_after t (ExchangeLines s ts) in
    let K = (lines-exchanged s ts t rs h).kept in
    let r = K.stretch in
    let A = above_ended (file_line_end t) r.above r.below in
    let v = block_text t ts r in
    let R = run-in_text t r.above r.lines r.below K.before in
    let T = run-in_text u A (new_lines t ts r) r.below K.after in
    let after : logical_lines u ≡ bytes_of A ++ (logical_lines v ++ bytes_of r.below) = T.lines ∙ ap (λ z. bytes_of A ++ (z ++ bytes_of r.below)) (bytes_of-classed (context_of r.above) (logical_lines v)) in
    let closed = subst (λ (z : Option Stretch). follows_open_line z ≡ false) K.place (exchange t s ts rs h).closed in
    (bytes_of r.above, bytes_of r.lines, logical_lines v, bytes_of r.below, bytes_of A, R.lines, old r K.place, new r, after, above-new t r.above r.lines r.below K.before closed)

-- ---- new lines, where no lines go

abbrev AreEmpty : List Stretch → Type 0
AreEmpty [] = Unit {0}
AreEmpty (s ∷ ss) = (s.lines ≡ []) × AreEmpty ss

map-empty : {A : Type 0} (f : A → Stretch) → ((x : A) → (f x).lines ≡ []) → (xs : List A) → AreEmpty (map f xs)
map-empty f h [] = tt
map-empty f h (x ∷ xs) = (h x, map-empty f h xs)

nth-empty : (n : ℕ) (ss : List Stretch) (s : Stretch) → AreEmpty ss → nth_of n ss ≡ Some s → s.lines ≡ []
nth-empty n [] s h e = absurd (cc)
nth-empty zero (r ∷ ss) s h e = absurd (cc)
nth-empty (suc zero) (r ∷ ss) s h e = let same : r ≡ s = cc in subst (λ (z : Stretch). z.lines ≡ []) same h.0
nth-empty (suc (suc n)) (r ∷ ss) s h e = nth-empty (suc n) ss s h.1 e

site-empty : (ls : List ClassedLine) (s : edits.Site) → IsOfNew s → AreEmpty (site_stretches ls s)
site-empty ls (edits.AtPlace edits.Top) i = (refl, tt)
site-empty ls (edits.AtPlace (edits.AfterLastVar n)) i = map-empty after_line (λ x. refl) (candidates ls (LastVariable n))
site-empty ls (edits.AtPlace (edits.AfterRule nth g)) i = map-empty after_rule (λ x. refl) (candidates ls (Rule nth g))
site-empty ls (edits.AtPlace edits.Bottom) i = (refl, tt)
site-empty ls (edits.AtPlace (edits.BeforeVar nth n)) i = map-empty before_line (λ x. refl) (candidates ls (Variable nth n))
site-empty ls (edits.AtPlace (edits.AfterVar nth n)) i = map-empty after_line (λ x. refl) (candidates ls (Variable nth n))
site-empty ls (edits.AtPlace (edits.BeforeRule nth g)) i = map-empty before_line (λ x. refl) (candidates ls (Rule nth g))
site-empty ls (edits.BeforeRun nth o) i = map-empty before_run (λ x. refl) (runs o ls)
site-empty ls (edits.AfterRun nth o) i = map-empty after_run (λ x. refl) (runs o ls)
site-empty ls (edits.OfRun nth o) i = absurd i
site-empty ls (edits.OfRuleRun nth g) i = absurd i

goes-nothing : (ls : List ClassedLine) (s : edits.Site) (r : Stretch) → IsOfNew s → site_found ls s ≡ Some r → bytes_of r.lines ≡ []
goes-nothing ls s r i h =
    let p = picked-nth (site_number s) (site_stretches ls s) r h in
    ap bytes_of (nth-empty p.0 (site_stretches ls s) r (site-empty ls s i) p.1)

-- where no lines go, new ones have to come
block-put : (s : edits.Site) (ts : List (List ℕ)) → IsOfNew s → first_failed (exchange_tests s ts) ≡ None → is_block ts ≡ true
block-put (edits.AtPlace p) ts i h = (two-passed field.Place field.Block (is_place p) (is_block ts) h).1
block-put (edits.BeforeRun nth o) ts i h = (two-passed field.Place field.Block (is_block o) (is_block ts) h).1
block-put (edits.AfterRun nth o) ts i h = (two-passed field.Place field.Block (is_block o) (is_block ts) h).1
block-put (edits.OfRun nth o) ts i h = absurd i
block-put (edits.OfRuleRun nth g) ts i h = absurd i

insert-stated : (s : edits.Site) (b : List ℕ) → IsOfNew s → (t : List ℕ) (rs : List Replacement) → spans t (ExchangeLines s (block_lines b)) ≡ Ok rs
    → Become Nothing (Say b) (logical_lines t) (logical_lines (text_after t (ExchangeLines s (block_lines b))))
insert-stated s b i t rs h =
    let new = block_lines b in
    let block = block-put s new i (exchange t s new rs h).fields in
    lines-exchange Nothing (Say b) t s new rs h (λ r found. goes-nothing (classed_lines t) s r i found) (λ r. say-block b (bytes_of r.above) (logical_lines (block_text t new r)) (new-said t new r block))

insert-nothing : (s : edits.Site) → IsOfNew s → (t : List ℕ) (rs : List Replacement) → spans t (ExchangeLines s []) ≡ Ok rs → ⊥
insert-nothing s i t rs h = let no : is_block [] ≡ true = block-put s [] i (exchange t s [] rs h).fields in absurd (cc)

-- ---- lines in the place of others

run-says : (t : List ℕ) (nth : Option ℕ) (o : List ℕ) (r : Stretch) → site_found (classed_lines t) (edits.OfRun nth (block_lines o)) ≡ Some r → Say o (bytes_of r.above) (bytes_of r.lines)
run-says t nth o r h = say-block o (bytes_of r.above) (bytes_of r.lines) (run-said t nth o r h)

-- new lines that may be none are those of a block
block-tested : (b : List ℕ) → (is_empty (block_lines b) || is_block (block_lines b)) ≡ true → is_block (block_lines b) ≡ true
block-tested b h = some (block_lines b) (block-some b) h
  where
    some : (ts : List (List ℕ)) → (ts ≡ [] → ⊥) → (is_empty ts || is_block ts) ≡ true → is_block ts ≡ true
    some [] n h = absurd (n refl)
    some (x ∷ ts) n h = h

replace-stated : (nth : Option ℕ) (o b : List ℕ) (t : List ℕ) (rs : List Replacement) → spans t (ExchangeLines (edits.OfRun nth (block_lines o)) (block_lines b)) ≡ Ok rs
    → Become (Say o) (Say b) (logical_lines t) (logical_lines (text_after t (ExchangeLines (edits.OfRun nth (block_lines o)) (block_lines b))))
replace-stated nth o b t rs h =
    let s = edits.OfRun nth (block_lines o) in
    let new = block_lines b in
    let tested = (two-passed field.Old field.Block (is_block (block_lines o)) _ (exchange t s new rs h).fields).1 in
    let block = block-tested b tested in
    lines-exchange (Say o) (Say b) t s new rs h (run-says t nth o) (λ r. say-block b (bytes_of r.above) (logical_lines (block_text t new r)) (new-said t new r block))

remove-stated : (nth : Option ℕ) (o : List ℕ) (t : List ℕ) (rs : List Replacement) → spans t (ExchangeLines (edits.OfRun nth (block_lines o)) []) ≡ Ok rs
    → Become (Say o) Nothing (logical_lines t) (logical_lines (text_after t (ExchangeLines (edits.OfRun nth (block_lines o)) [])))
remove-stated nth o t rs h = lines-exchange (Say o) Nothing t (edits.OfRun nth (block_lines o)) [] rs h (run-says t nth o) (λ r. refl)

-- ---- lines in the place of a rule

-- the run of a rule has its header first
run-led : (x : StandingLine) → (rest : List ClassedLine) × ((run_or_header x).lines ≡ x.line ∷ rest)
run-led x = go (run_below 0 (length (recipe_run x.below)) x.below)
  where
    go : (o : Option Stretch) → (rest : List ClassedLine) × ((unwrap_or (option_map (under_header x) o) (this_line x)).lines ≡ x.line ∷ rest)
    go None = ([], refl)
    go (Some s) = (s.lines, refl)

-- the run of a rule begins with its header
rule-led : (t : List ℕ) (nth : Option ℕ) (g : List ℕ) (r : Stretch) → site_found (classed_lines t) (edits.OfRuleRun nth g) ≡ Some r → Headed g (bytes_of r.above) (bytes_of r.lines)
rule-led t nth g r h =
    let ls = classed_lines t in
    let P = picked-of_map run_or_header nth (candidates ls (Rule nth g)) r h in
    let x = P.from in
    let S = picked-is (λ l. is_rule_for g l.class) ls nth x P.picked_is in
    let L = line-in_text t x.above x.line x.below S.whole in
    let names = rule-names (context_of x.above) g x.line.bytes x.line.class L.class S.passes in
    let led = run-led x in
    (x.line.bytes, bytes_of led.0, ap (λ (z : Stretch). bytes_of z.lines) (sym P.image) ∙ ap bytes_of led.1, names)

replace_rule-stated : (nth : Option ℕ) (g b : List ℕ) (t : List ℕ) (rs : List Replacement) → spans t (ExchangeLines (edits.OfRuleRun nth g) (block_lines b)) ≡ Ok rs
    → Become (Headed g) (Say b) (logical_lines t) (logical_lines (text_after t (ExchangeLines (edits.OfRuleRun nth g) (block_lines b))))
replace_rule-stated nth g b t rs h =
    let s = edits.OfRuleRun nth g in
    let new = block_lines b in
    let block = block-tested b (two-passed field.Target field.Block (is_target g) _ (exchange t s new rs h).fields).1 in
    lines-exchange (Headed g) (Say b) t s new rs h (rule-led t nth g) (λ r. say-block b (bytes_of r.above) (logical_lines (block_text t new r)) (new-said t new r block))

remove_rule-stated : (nth : Option ℕ) (g : List ℕ) (t : List ℕ) (rs : List Replacement) → spans t (ExchangeLines (edits.OfRuleRun nth g) []) ≡ Ok rs
    → Become (Headed g) Nothing (logical_lines t) (logical_lines (text_after t (ExchangeLines (edits.OfRuleRun nth g) [])))
remove_rule-stated nth g t rs h = lines-exchange (Headed g) Nothing t (edits.OfRuleRun nth g) [] rs h (rule-led t nth g) (λ r. refl)

-- ---- the edit

-- what an edit of whole lines does
pub exchange-stated : {A : _} (s : Site A) (b : Option (Vec ℕ A)) (t : List ℕ) (rs : List Replacement) → spans t (ExchangeLines (site_of s) (lines_of b)) ≡ Ok rs
    → Does (edit.ExchangeLines s b) (logical_lines t) (logical_lines (text_after t (ExchangeLines (site_of s) (lines_of b))))
exchange-stated (site.OfLines k o) (Some n) t rs h = replace-stated k o.items n.items t rs h
exchange-stated (site.OfLines k o) None t rs h = remove-stated k o.items t rs h
exchange-stated (site.OfRule k g) (Some n) t rs h = replace_rule-stated k g.items n.items t rs h
exchange-stated (site.OfRule k g) None t rs h = remove_rule-stated k g.items t rs h
exchange-stated (site.AtPlace p) (Some n) t rs h = insert-stated (edits.AtPlace (place_of p)) n.items tt t rs h
exchange-stated (site.AtPlace p) None t rs h = absurd (insert-nothing (edits.AtPlace (place_of p)) tt t rs h)
exchange-stated (site.BeforeLines k o) (Some n) t rs h = insert-stated (edits.BeforeRun k (block_lines o.items)) n.items tt t rs h
exchange-stated (site.BeforeLines k o) None t rs h = absurd (insert-nothing (edits.BeforeRun k (block_lines o.items)) tt t rs h)
exchange-stated (site.AfterLines k o) (Some n) t rs h = insert-stated (edits.AfterRun k (block_lines o.items)) n.items tt t rs h
exchange-stated (site.AfterLines k o) None t rs h = absurd (insert-nothing (edits.AfterRun k (block_lines o.items)) tt t rs h)
