-- What a new rule does to the lines of a makefile, in bytes.
use Rattle.std.proofs.Common.{◌≡◌, refl, sym, ap, ◌∙◌, subst, ℕ, List, [], ◌∷◌, ◌++◌, Bool, true, false, inl, inr}
use Rattle.std.proofs.lemmas.List.{append-nil}
use Rattle.std.specs.Prelude.{Ok, nat_lt}
use Rattle.std.specs.List.{list_any}
use Rattle.mk_lines.specs.Lists.{concat}
use Rattle.mk_lines.proofs.on_lists.BoolLemmas.{or-left_false, or-right_false}
use Rattle.mk_lines.specs.Bytes.{ByteKind, byte_kind, is_blank_kind}
use Rattle.mk_lines.specs.Bytes.ByteKind.{LineFeed, CarriageReturn, Backslash, Blank, Ordinary}
use Rattle.mk_lines.specs.LogicalLines.{logical_lines}
use Rattle.mk_lines.specs.Units.{units}
use Rattle.mk_lines.proofs.on_units.UnitLemmas.{concat-units}
use Rattle.mk_lines.specs.Words.{Token, Word, tokens, before_tokens, token_words, is_gap, words_in}
use Rattle.mk_lines.specs.Spacing.{each_after_space, spaced_words}
use Rattle.mk_lines.specs.Pieces.{Replacement}
use Rattle.mk_class.specs.ClassedLines.{classed_lines}
use Rattle.mk_edit_language.specs.Edits.{Place, NewRule, AddLine}
use Rattle.mk_edit_language.specs.Stretches.{place_found}
use Rattle.mk_edit_language.specs.NewLines.{rule_separator_text, rule_text, new_line_end}
use Rattle.mk_edit_language.specs.declared.edit.RuleSeparator.{RuleSeparator}
use Rattle.mk_edit_language.specs.declared.edit.RuleSeparator.TheVariants.{Single, Double}
use Rattle.mk_edit_language.specs.Refusals.{spans, text_after}
use Rattle.mk_edit_language.proofs.on_edits.MadeEdits.{one_place-made}
use Rattle.mk_session.specs.Statement.{Has, Names, Line, Become}
use Rattle.mk_session.proofs.on_statement.CellTexts.{has-nothing, has-left, all-solid}
use Rattle.mk_session.proofs.on_statement.WordEdges.{IsOfKind, kind-is, BeginsBehind, begins-left, behind-colon}
use Rattle.mk_session.proofs.on_statement.LineWords.{names-left, names-parts, names-in}
use Rattle.mk_session.proofs.on_statement.PlacedLines.{Nothing, lines-become}
use Rattle.mk_session.proofs.on_statement.ValuesStated.{no-lines}

-- ---- a text without blanks is one word

any-left : (p : ℕ → Bool) (a b : List ℕ) → list_any p (a ++ b) ≡ false → list_any p a ≡ false
any-left p [] b h = refl
any-left p (x ∷ a) b h = rw (or-left_false (p x) (list_any p (a ++ b)) h, any-left p a b (or-right_false (p x) (list_any p (a ++ b)) h)) refl

any-right : (p : ℕ → Bool) (a b : List ℕ) → list_any p (a ++ b) ≡ false → list_any p b ≡ false
any-right p [] b h = h
any-right p (x ∷ a) b h = any-right p a b (or-right_false (p x) (list_any p (a ++ b)) h)

-- a blank is below 33
not_blank : (b : ℕ) → nat_lt b 33 ≡ false → is_blank_kind (byte_kind b) ≡ false
not_blank b h = go (byte_kind b) (kind-is b)
  where
    at : (n : ℕ) → b ≡ n → nat_lt n 33 ≡ false
    at n e = subst (λ z. nat_lt z 33 ≡ false) e h

    go : (k : ByteKind) → IsOfKind k b → is_blank_kind k ≡ false
    go LineFeed i = refl
    go CarriageReturn i = refl
    go Backslash i = refl
    go Blank (inl i) = absurd (let no : true ≡ false = at 32 i in cc)
    go Blank (inr i) = absurd (let no : true ≡ false = at 9 i in cc)
    go Ordinary i = refl

no_gap : (u : List ℕ) → list_any (λ b. nat_lt b 33) u ≡ false → is_gap (λ b. b) u ≡ false
no_gap [] h = refl
no_gap (b ∷ []) h = not_blank b (or-left_false (nat_lt b 33) false h)
no_gap (b ∷ c ∷ u) h = refl

one-word : (u : List ℕ) (us : List (List ℕ)) → list_any (λ b. nat_lt b 33) (concat (u ∷ us)) ≡ false → (w : List (List ℕ)) × (tokens (λ b. b) (u ∷ us) ≡ Word w ∷ []) × (concat w ≡ concat (u ∷ us))
one-word u [] h =
    let g = no_gap u (any-left (λ b. nat_lt b 33) u [] h) in
    (u ∷ [], ap (λ (x : Bool). before_tokens x u []) g, refl)
one-word u (v ∷ us) h =
    let g = no_gap u (any-left (λ b. nat_lt b 33) u (concat (v ∷ us)) h) in
    let W = one-word v us (any-right (λ b. nat_lt b 33) u (concat (v ∷ us)) h) in
    (u ∷ W.0, ap (λ (x : Bool). before_tokens x u (tokens (λ b. b) (v ∷ us))) g ∙ ap (before_tokens false u) W.1, ap (λ z. u ++ z) W.2)

-- such a text is its words
word-is : (g : List ℕ) → list_any (λ b. nat_lt b 33) g ≡ false → spaced_words (words_in g) ≡ g
word-is g plain = go (units (λ b. b) g) (concat-units (λ b. b) g)
  where
    go : (us : List (List ℕ)) → concat us ≡ g → spaced_words (token_words (tokens (λ b. b) us)) ≡ g
    go [] e = e
    go (u ∷ us) e =
        let W = one-word u us (subst (λ z. list_any (λ b. nat_lt b 33) z ≡ false) (sym e) plain) in
        ap (λ (ts : List (Token ℕ)). spaced_words (token_words ts)) W.1 ∙ (append-nil (concat W.0) ∙ (W.2 ∙ e))

-- ---- a new rule

separator-has : (s : RuleSeparator) → Has (58 ∷ []) (rule_separator_text s)
separator-has Single = ([], [], refl)
separator-has Double = ([], 58 ∷ [], refl)

separator-begins : (s : RuleSeparator) → BeginsBehind (rule_separator_text s)
separator-begins Single = (58, [], refl, behind-colon)
separator-begins Double = (58, 58 ∷ [], refl, behind-colon)

rule-front : (g : List ℕ) (s : RuleSeparator) (ws : List ℕ) → Names g 58 (rule_text g s ws)
rule-front g s ws plain =
    let S = rule_separator_text s in
    let W = each_after_space (words_in ws) in
    names-in g 58 (rule_text g s ws) (g ++ (S ++ W)) (ap (λ z. z ++ (S ++ W)) (word-is g (all-solid g plain)))
    (names-parts g 58 [] (S ++ W) (inl refl) (begins-left S W (separator-begins s)) (has-left (58 ∷ []) S W (separator-has s))) plain

pub rule-stated : (p : Place) (g : List ℕ) (s : RuleSeparator) (ws t : List ℕ) (rs : List Replacement) → spans t (AddLine p (NewRule g s ws)) ≡ Ok rs
    → Become Nothing (Line g 58 []) (logical_lines t) (logical_lines (text_after t (AddLine p (NewRule g s ws))))
rule-stated p g s ws t rs h =
    let e = AddLine p (NewRule g s ws) in
    let K = (one_place-made e tt t rs h).kept in
    let m = rule_text g s ws ++ new_line_end t in
    lines-become Nothing (Line g 58 []) t e rs K.touched K.place h (no-lines (place_found (classed_lines t) p) K.touched K.place)
    (m, refl, names-left g 58 (rule_text g s ws) (new_line_end t) (rule-front g s ws), has-nothing m)
