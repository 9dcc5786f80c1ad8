-- What an edit of rules and recipes does to the lines of a makefile, in bytes.
use Rattle.std.proofs.Common.{◌≡◌, refl, sym, ap, ◌∙◌, subst, ℕ, ◌+◌, List, [], ◌∷◌, ◌++◌, length, take, drop, Bool, true, false, append_assoc, Option, Some, option_map}
use Rattle.std.specs.Prelude.{Ok, ◌||◌, codes, if◌then◌else◌, not, map}
use Rattle.std.specs.List.{Any}
use Rattle.std.proofs.lemmas.List.{append-nil}
use Rattle.std.specs.Str.{bytes_eq}
use Rattle.std.proofs.lemmas.Bool.{eq-eqb, false≢true, not-false}
use Rattle.std.proofs.lemmas.Slice.Eq.{bytes_eq-Decides}
use Rattle.mk_lines.specs.Lists.{concat, trim_end, trailing}
use Rattle.mk_lines.specs.LogicalLines.{logical_lines}
use Rattle.mk_lines.specs.PhysicalLines.{line_end, line_end_bytes, without_line_end}
use Rattle.mk_lines.specs.Cells.{Cell, joined_byte, raw_text}
use Rattle.mk_lines.specs.Words.{Token, Gap, Word, is_gap, token_words, tokens}
use Rattle.mk_lines.proofs.on_units.TokenLemmas.{token_text-tokens}
use Rattle.mk_lines.specs.Pieces.{Replacement, Piece, Keep, Replace, old_cells, new_bytes, old_bytes, replacements}
use Rattle.mk_lines.proofs.on_lists.PieceLemmas.{new_bytes-append, raw_text-old_cells}
use Rattle.mk_class.specs.ListTests.{is_empty}
use Rattle.mk_class.specs.Headers
use Rattle.mk_class.specs.Headers.{header_units}
use Rattle.mk_class.specs.Classes.{Class}
use Rattle.mk_class.specs.ClassedLines.{classed_lines}
use Rattle.mk_class.specs.Texts.{is_one_of, unit_text}
use Rattle.mk_tree.specs.LineTexts.{StandingLine, text_of, context_of, bytes_of}
use Rattle.mk_tree.proofs.on_documents.LinesInText.{line-in_text, run-in_text}
use Rattle.mk_edit_language.specs.Edits.{PrereqChange, AddPrereq, RemovePrereq, ReplacePrereq, RecipeLine, RecipePlace, OfRecipe, ChangePrereqs, AddRecipe, SetRecipe, RemoveLines}
use Rattle.mk_edit_language.specs.Addresses as addresses
use Rattle.mk_edit_language.specs.Addresses.{is_rule_for, found}
use Rattle.mk_edit_language.specs.Stretches.{Stretch, this_line, between, recipe_found, recipe_place}
use Rattle.mk_edit_language.specs.NewLines.{new_line_end}
use Rattle.mk_edit_language.specs.RuleCauses.{class_found, header_passes, is_normal, is_order_only, is_prereq}
use Rattle.mk_edit_language.specs.WordPieces.{kept, header_pieces, put_last, prerequisite_text, is_word_of, removed_words, renamed_tokens, renamed_words, normal_pieces, add_pieces, replace_pieces}
use Rattle.mk_edit_language.specs.EditSpans.{prereq_pieces, word_spans, recipe_span, where_found}
use Rattle.mk_edit_language.specs.KeptLines.{respanned_bytes}
use Rattle.mk_edit_language.specs.Refusals.{spans, text_after}
use Rattle.mk_edit_language.specs.declared.refusal.Refusal.TheVariants.{Absent}
use Rattle.mk_edit_language.proofs.on_edits.Accepted.{accepted, where_holds-none}
use Rattle.mk_edit_language.proofs.on_edits.EditedLineLemmas.{respanned-one, respanned-pieces}
use Rattle.mk_edit_language.proofs.on_edits.MadeEdits.{one_place-made}
use Rattle.mk_edit_language.proofs.on_lines.SpotLemmas.{picked-is, recipe_found-is}
use Rattle.mk_edit_language.proofs.on_lines.HeaderChanges.{middle_units, header-here}
use Rattle.mk_edit_language.proofs.on_prerequisites.HeaderEdits.{header_pieces-whole, kept-old, word_spans-header}
use Rattle.mk_edit_language.proofs.on_prerequisites.AddPrereqLemmas.{put_last-old}
use Rattle.mk_edit_language.proofs.on_prerequisites.WordsRemoved.{removed-old_cells}
use Rattle.mk_edit_language.proofs.on_renames.WordsRenamed.{renamed-old_cells}
use Rattle.mk_session.specs.Statement.{Has, Names, Line, Recipe, Become}
use Rattle.mk_session.proofs.on_statement.CellTexts.{has-nothing, has-left, has-right, has-front}
use Rattle.mk_session.proofs.on_statement.LineWords.{header-front, rule-for, rule-names}
use Rattle.mk_session.proofs.on_statement.PlacedLines.{Nothing, lines-become}
use Rattle.mk_session.proofs.on_statement.RecipePlaces.{led-is_recipe, recipe-led, recipe-line, recipe_found-below, recipe_place-below, text_meant, recipe_found-has}
use Rattle.mk_session.proofs.on_statement.ValuesStated.{some-mapped, no-lines}

-- ---- prerequisites

-- the word that a change puts in
abbrev word_put : PrereqChange → List ℕ
word_put (AddPrereq order w) = w
word_put (RemovePrereq w) = []
word_put (ReplacePrereq o w) = w

-- A change keeps the targets of a rule and what stands before its prerequisites, and its pieces are the line's.
record KeepTargets (h : Headers.Header Cell) (w : List ℕ) (ps : List Piece) : Type 0 where
  rest : List ℕ
  old : old_cells ps ≡ concat (header_units h)
  whole : new_bytes ps ≡ raw_text (concat h.targets) ++ (raw_text (concat (middle_units h)) ++ rest)
  has : Has w rest

last-has : (w t : List ℕ) (us : List (List Cell)) (ps : List Piece) → Has w t → Has w (new_bytes (put_last t us ++ ps))
last-has w t us ps h = has-right w (raw_text (concat (trim_end (is_gap joined_byte) us))) (t ++ (raw_text (concat (trailing (is_gap joined_byte) us)) ++ new_bytes ps)) (has-left w t (raw_text (concat (trailing (is_gap joined_byte) us)) ++ new_bytes ps) h)

kept-first : (h : Headers.Header Cell) (w : List ℕ) (n o : List Piece) → old_cells n ≡ concat h.normal → old_cells o ≡ concat h.order_only → Has w (new_bytes (n ++ (kept h.bar ++ (o ++ kept h.tail)))) → KeepTargets h w (header_pieces h (kept h.targets) n o)
kept-first h w n o i j k = record { rest = new_bytes (n ++ (kept h.bar ++ (o ++ kept h.tail))); old = header_pieces-whole h (kept h.targets) n o (kept-old h.targets) i j; whole = refl; has = k }

normal-keeps : (w : List ℕ) (h : Headers.Header Cell) → KeepTargets h w (normal_pieces w h)
normal-keeps w h =
    kept-first h w (put_last (prerequisite_text w h) h.normal) (kept h.order_only) (put_last-old (prerequisite_text w h) h.normal) (kept-old h.order_only)
    (last-has w (prerequisite_text w h) h.normal (kept h.bar ++ (kept h.order_only ++ kept h.tail)) (has-right w (32 ∷ []) _ (has-front w _)))

order-keeps : (w : List ℕ) (h : Headers.Header Cell) → KeepTargets h w (add_pieces true w h)
order-keeps w h = go (is_empty h.bar)
  where
    go : (x : Bool)
        → KeepTargets h w (if x then header_pieces h (kept h.targets) (put_last (codes " | " ++ w) h.normal) (kept h.order_only) else header_pieces h (kept h.targets) (kept h.normal) (put_last (32 ∷ w) h.order_only))
    go true =
        kept-first h w (put_last (codes " | " ++ w) h.normal) (kept h.order_only) (put_last-old (codes " | " ++ w) h.normal) (kept-old h.order_only)
        (last-has w (codes " | " ++ w) h.normal (kept h.bar ++ (kept h.order_only ++ kept h.tail)) (codes " | ", [], ap (λ z. codes " | " ++ z) (sym (append-nil w))))
    go false =
        kept-first h w (kept h.normal) (put_last (32 ∷ w) h.order_only) (kept-old h.normal) (put_last-old (32 ∷ w) h.order_only)
        (has-right w (raw_text (concat h.normal)) (raw_text (concat h.bar) ++ new_bytes (put_last (32 ∷ w) h.order_only ++ kept h.tail))
        (has-right w (raw_text (concat h.bar)) (new_bytes (put_last (32 ∷ w) h.order_only ++ kept h.tail))
        (last-has w (32 ∷ w) h.order_only (kept h.tail) (32 ∷ [], [], ap (λ z. 32 ∷ z) (sym (append-nil w))))))

removed-cells : (w : List ℕ) (us : List (List Cell)) → old_cells (removed_words w us) ≡ concat us
removed-cells w us = removed-old_cells w [] (tokens joined_byte us) ∙ token_text-tokens joined_byte us

-- a new word in the place of an old one that is there
differ-turned : (s t : List ℕ) → bytes_eq s t ≡ false → bytes_eq t s ≡ false
differ-turned s t h = go (bytes_eq t s) refl
  where
    go : (b : Bool) → bytes_eq t s ≡ b → b ≡ false
    go true e = absurd (false≢true (sym h ∙ (bytes_eq-Decides s t).1 (sym ((bytes_eq-Decides t s).0 e))))
    go false e = refl

module _ (o n : List ℕ) where
  tokens-put : (ts : List (Token Cell)) → is_one_of o (map (map joined_byte) (token_words ts)) ≡ true → Has n (new_bytes (renamed_tokens o n ts))
  tokens-put [] h = absurd (cc)
  tokens-put (Gap u ∷ ts) h = has-right n (raw_text u) (new_bytes (renamed_tokens o n ts)) (tokens-put ts h)
  tokens-put (Word w ∷ ts) h = go (is_word_of o w) refl (tokens-put ts)
    where
      go : (b : Bool) → is_word_of o w ≡ b → (is_one_of o (map (map joined_byte) (token_words ts)) ≡ true → Has n (new_bytes (renamed_tokens o n ts)))
          → Has n (new_bytes ((if b then Replace (concat w) n else Keep (concat w)) ∷ renamed_tokens o n ts))
      go true e k = has-front n (new_bytes (renamed_tokens o n ts))
      go false e k =
          let other : bytes_eq o (unit_text joined_byte w) ≡ false = differ-turned (unit_text joined_byte w) o e in
          has-right n (raw_text (concat w)) (new_bytes (renamed_tokens o n ts)) (k (ap (λ z. z || is_one_of o (map (map joined_byte) (token_words ts))) (sym other) ∙ h))

  words-old : (us : List (List Cell)) → old_cells (renamed_words o n us) ≡ concat us
  words-old us = renamed-old_cells o n (tokens joined_byte us) ∙ token_text-tokens joined_byte us

  -- the pieces before others
  has-first : (ps qs : List Piece) → Has n (new_bytes ps) → Has n (new_bytes (ps ++ qs))
  has-first ps qs h = subst (Has n) (sym (new_bytes-append ps qs)) (has-left n (new_bytes ps) (new_bytes qs) h)

  has-last : (ps qs : List Piece) → Has n (new_bytes qs) → Has n (new_bytes (ps ++ qs))
  has-last ps qs h = subst (Has n) (sym (new_bytes-append ps qs)) (has-right n (new_bytes ps) (new_bytes qs) h)

  replaced-keeps : (h : Headers.Header Cell) → is_prereq o h ≡ true → KeepTargets h n (replace_pieces o n h)
  replaced-keeps h e =
      kept-first h n (renamed_words o n h.normal) (renamed_words o n h.order_only) (words-old h.normal) (words-old h.order_only)
      (go (is_normal o h) refl (is_order_only o h) refl e)
    where
      go : (a : Bool) → is_normal o h ≡ a → (b : Bool) → is_order_only o h ≡ b → (a || b) ≡ true → Has n (new_bytes (renamed_words o n h.normal ++ (kept h.bar ++ (renamed_words o n h.order_only ++ kept h.tail))))
      go true i b j k = has-first (renamed_words o n h.normal) _ (tokens-put (tokens joined_byte h.normal) i)
      go false i true j k =
          has-last (renamed_words o n h.normal) _ (has-last (kept h.bar) (renamed_words o n h.order_only ++ kept h.tail) (has-first (renamed_words o n h.order_only) (kept h.tail) (tokens-put (tokens joined_byte h.order_only) j)))
      go false i false j k = absurd (cc)

-- a word of a header that is replaced is there
abbrev IsThere : PrereqChange → Headers.Header Cell → Type 0
IsThere (ReplacePrereq o n) h = is_prereq o h ≡ true
IsThere c h = Unit {0}

change-keeps : (c : PrereqChange) (h : Headers.Header Cell) → IsThere c h → KeepTargets h (word_put c) (prereq_pieces c h)
change-keeps (AddPrereq true w) h i = order-keeps w h
change-keeps (AddPrereq false w) h i = normal-keeps w h
change-keeps (ReplacePrereq o n) h i = replaced-keeps o n h i
change-keeps (RemovePrereq w) h i = kept-first h [] (removed_words w h.normal) (removed_words w h.order_only) (removed-cells w h.normal) (removed-cells w h.order_only) (has-nothing _)

-- which an accepted edit tells
there : (nth : Option ℕ) (g : List ℕ) (c : PrereqChange) (t : List ℕ) (rs : List Replacement) (s : StandingLine) (h : Headers.Header Cell) → spans t (ChangePrereqs nth g c) ≡ Ok rs
    → found (classed_lines t) (addresses.Rule nth g) ≡ Some s → s.line.class ≡ Class.Header h → IsThere c h
there nth g (AddPrereq o w) t rs s h k f e = tt
there nth g (RemovePrereq w) t rs s h k f e = tt
there nth g (ReplacePrereq o n) t rs s h k f e =
    let none : not (header_passes (is_prereq o) (class_found (found (classed_lines t) (addresses.Rule nth g)))) ≡ false = where_holds-none _ Absent (accepted t (ChangePrereqs nth g (ReplacePrereq o n)) rs k).not_absent in
    let passes : header_passes (is_prereq o) (class_found (found (classed_lines t) (addresses.Rule nth g))) ≡ true = not-false _ none in
    sym (ap (λ (y : Option StandingLine). header_passes (is_prereq o) (class_found y)) f ∙ ap (λ (y : Class Cell). header_passes (is_prereq o) (Some y)) e) ∙ passes

-- the line of a rule becomes another
pub prereqs-stated : (nth : Option ℕ) (g : List ℕ) (c : PrereqChange) (t : List ℕ) (rs : List Replacement) → spans t (ChangePrereqs nth g c) ≡ Ok rs
    → Become (Line g 58 []) (Line g 58 (word_put c)) (logical_lines t) (logical_lines (text_after t (ChangePrereqs nth g c)))
prereqs-stated nth g c t rs h =
    let e = ChangePrereqs nth g c in
    let K = (one_place-made e tt t rs h).kept in
    let M = some-mapped this_line (found (classed_lines t) (addresses.Rule nth g)) K.touched K.place in
    let s = M.0 in
    let S = picked-is (λ l. is_rule_for g l.class) (classed_lines t) nth s M.1 in
    let L = line-in_text t s.above s.line s.below S.whole in
    let F = rule-for g s.line.class S.passes in
    let H = F.header in
    let k = L.class ∙ F.class_is in
    let W = header-here (context_of s.above) s.line.bytes H k in
    let ps = prereq_pieces c H in
    let P = change-keeps c H (there nth g c t rs s H h M.1 F.class_is) in
    let end = line_end_bytes (line_end s.line.bytes) in
    let T = raw_text (concat H.targets) in
    let C = raw_text (concat (middle_units H)) in
    let old : s.line.bytes ≡ old_bytes ps ++ end = W.whole ∙ ap (λ z. z ++ end) (ap raw_text (sym P.old) ∙ raw_text-old_cells ps) in
    let spans_are : rs ≡ replacements (length (text_of s.above)) ps = sym (accepted t e rs h).spans_are ∙ (ap (where_found (word_spans (prereq_pieces c))) M.1 ∙ word_spans-header (prereq_pieces c) s H F.class_is) in
    let m = T ++ (C ++ (P.rest ++ end)) in
    let new : respanned_bytes (this_line s) rs ≡ m =
    ap (respanned_bytes (this_line s)) spans_are
    ∙ (respanned-pieces (this_line s) ps end (append-nil s.line.bytes ∙ old)
    ∙ (ap (λ z. z ++ end) P.whole ∙ (append_assoc T (C ++ P.rest) end ∙ ap (λ z. T ++ z) (append_assoc C P.rest end)))) in
    lines-become (Line g 58 []) (Line g 58 (word_put c)) t e rs (this_line s) (ap (option_map this_line) M.1) h
    (s.line.bytes, refl, rule-names (context_of s.above) g s.line.bytes s.line.class L.class S.passes, has-nothing s.line.bytes) (
      m,
      ap (λ z. z ∷ []) new,
      header-front (context_of s.above) s.line.bytes g H (P.rest ++ end) k F.is_target,
      has-right (word_put c) T (C ++ (P.rest ++ end)) (has-right (word_put c) C (P.rest ++ end) (has-left (word_put c) P.rest end P.has)),
    )

-- ---- recipe lines

-- a new recipe line
pub new_recipe-stated : (nth : Option ℕ) (g : List ℕ) (p : RecipePlace) (c t : List ℕ) (rs : List Replacement) → spans t (AddRecipe nth g p c) ≡ Ok rs
    → Become Nothing (Recipe g c) (logical_lines t) (logical_lines (text_after t (AddRecipe nth g p c)))
new_recipe-stated nth g p c t rs h =
    let e = AddRecipe nth g p c in
    let K = (one_place-made e tt t rs h).kept in
    let s = K.touched in
    let M = some-mapped between (recipe_place (classed_lines t) nth g p) s K.place in
    let R = run-in_text t s.above s.lines s.below K.before in
    let b = (context_of s.above).prefix in
    let end = new_line_end t in
    let m = b ∷ (c ++ end) in
    let below : Any (Names g 58) (bytes_of s.above) = subst (λ (z : Stretch). Any (Names g 58) (bytes_of z.above)) M.2 (recipe_place-below t g nth p M.0 M.1) in
    lines-become Nothing (Recipe g c) t e rs s K.place h (no-lines (recipe_place (classed_lines t) nth g p) s K.place)
    (m, refl, led-is_recipe s.above m b R.above_classed refl (eq-eqb b b refl), (b ∷ [], end, refl), below)

-- a recipe line with another text
pub set_recipe-stated : (nth : Option ℕ) (g : List ℕ) (w : RecipeLine) (c t : List ℕ) (rs : List Replacement) → spans t (SetRecipe nth g w c) ≡ Ok rs
    → Become (Recipe g (text_meant w)) (Recipe g c) (logical_lines t) (logical_lines (text_after t (SetRecipe nth g w c)))
set_recipe-stated nth g w c t rs h =
    let e = SetRecipe nth g w c in
    let K = (one_place-made e tt t rs h).kept in
    let M = some-mapped this_line (recipe_found (classed_lines t) nth g w) K.touched K.place in
    let s = M.0 in
    let S = recipe_found-is (classed_lines t) nth g w s M.1 in
    let I = recipe-line t s.above s.line s.below S.whole S.passes in
    let B = recipe-led (bytes_of s.above) s.line.bytes I in
    let below = recipe_found-below t g nth w s M.1 in
    let at = length (text_of s.above) in
    let b = length (without_line_end s.line.bytes) in
    let rest = drop b (s.line.bytes ++ []) in
    let spans_are : rs ≡ recipe_span c s = sym (accepted t e rs h).spans_are ∙ ap (where_found (recipe_span c)) M.1 in
    let m = B.0 ∷ (c ++ rest) in
    let first : take 1 (s.line.bytes ++ []) ≡ B.0 ∷ [] = ap (λ z. take 1 (z ++ [])) B.2 in
    let new : respanned_bytes (this_line s) rs ≡ m =
    ap (respanned_bytes (this_line s)) spans_are ∙ (respanned-one (this_line s) (at + 1) (at + b) 1 b c refl refl ∙ ap (λ z. z ++ (c ++ rest)) first) in
    lines-become (Recipe g (text_meant w)) (Recipe g c) t e rs (this_line s) (ap (option_map this_line) M.1) h
    (s.line.bytes, refl, I, recipe_found-has t g nth w s M.1, below)
    (m, ap (λ z. z ∷ []) new, B.3 (c ++ rest), (B.0 ∷ [], rest, refl), below)

-- a recipe line that goes
pub no_recipe-stated : (nth : Option ℕ) (g : List ℕ) (w : RecipeLine) (t : List ℕ) (rs : List Replacement) → spans t (RemoveLines (OfRecipe nth g w)) ≡ Ok rs
    → Become (Recipe g (text_meant w)) Nothing (logical_lines t) (logical_lines (text_after t (RemoveLines (OfRecipe nth g w))))
no_recipe-stated nth g w t rs h =
    let e = RemoveLines (OfRecipe nth g w) in
    let K = (one_place-made e tt t rs h).kept in
    let M = some-mapped this_line (recipe_found (classed_lines t) nth g w) K.touched K.place in
    let s = M.0 in
    let S = recipe_found-is (classed_lines t) nth g w s M.1 in
    lines-become (Recipe g (text_meant w)) Nothing t e rs (this_line s) (ap (option_map this_line) M.1) h
    (s.line.bytes, refl, recipe-line t s.above s.line s.below S.whole S.passes, recipe_found-has t g nth w s M.1, recipe_found-below t g nth w s M.1) refl
