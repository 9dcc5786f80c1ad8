-- Targets before a separator with others in their place: the line is taken apart there again, and its units are read again.
use Rattle.std.proofs.Common.{◌≡◌, refl, sym, ap, ◌∙◌, ℕ, List, [], ◌∷◌, ◌++◌, map, Bool, true, false, not, ◌&&◌, ◌||◌, cond, append_assoc}
use Rattle.std.proofs.lemmas.List.{append-nil}
use Rattle.std.proofs.lemmas.Bool.{or_parts, not-true}
use Rattle.std.proofs.Math.Bool.{and-false}
use Rattle.mk_lines.specs.Lists.{concat, Each}
use Rattle.mk_lines.proofs.on_lists.ListLemmas.{concat-append}
use Rattle.mk_lines.specs.Cells.{Cell, Byte, joined_byte}
use Rattle.mk_lines.specs.Units.{units, is_closed}
use Rattle.mk_lines.proofs.on_units.UnitLemmas.{concat-units, units-replaced, EndsPlain-append, EndsPlain-closed}
use Rattle.mk_lines.specs.Words.{Token, Gap, Word, token_units, is_word_first, AreTokens}
use Rattle.mk_lines.proofs.on_units.TokenLemmas.{token_text}
use Rattle.mk_class.specs.ListTests.{until, from, first_passes, last_passes}
use Rattle.mk_class.proofs.on_symbols.ListLemmas.{until-from}
use Rattle.mk_class.specs.Symbols.{symbol, is_colon, is_ampersand}
use Rattle.mk_class.proofs.on_symbols.SymbolLemmas.{gap-plain}
use Rattle.mk_class.specs.Separators.{separated, separated_before, separator_at, begins_separator}
use Rattle.mk_class.specs.Headers.{is_no_colon}
use Rattle.mk_edit_language.specs.WordPieces.{is_word_of}
use Rattle.mk_edit_language.proofs.on_prerequisites.NewWords.{IsNewWord, cell_units}
use Rattle.mk_edit_language.proofs.on_renames.WordsRenamed.{tokens_renamed}

-- ---- the separator

-- at no index of `before` does the rest of it, with `after` behind it, pass the test
abbrev pub Free : {A : Type 0} → (List A → Bool) → (before after : List A) → Type 0
Free p [] F = Unit {0}
Free p (u ∷ T) F = (p (u ∷ (T ++ F)) ≡ false) × Free p T F

-- before the first index that passes the test, no index passes it
pub until-free : {A : Type 0} (p : List A → Bool) (us : List A) → Free p (until p us) (from p us)
until-free p [] = tt
until-free p (u ∷ us) = go (p (u ∷ us)) refl (until-free p us)
  where
    go : (c : Bool) → p (u ∷ us) ≡ c → Free p (until p us) (from p us) → Free p (cond c [] (u ∷ until p us)) (cond c (u ∷ us) (from p us))
    go true e h = tt
    go false e h = (ap (λ z. p (u ∷ z)) (until-from p us) ∙ e, h)

-- a list in which no index passes is what stands before the first index that passes
free-until : {A : Type 0} (p : List A → Bool) (T F : List A) → Free p T F → p F ≡ true → (until p (T ++ F) ≡ T) × (from p (T ++ F) ≡ F)
free-until p [] [] h k = (refl, refl)
free-until p [] (x ∷ F) h k = (ap (λ c. cond c [] (x ∷ until p F)) k, ap (λ c. cond c (x ∷ F) (from p F)) k)
free-until p (u ∷ T) F h k =
    let r = free-until p T F h.1 k in
    (ap (λ c. cond c [] (u ∷ until p (T ++ F))) h.0 ∙ ap (λ z. u ∷ z) r.0, ap (λ c. cond c (u ∷ (T ++ F)) (from p (T ++ F))) h.0 ∙ r.1)

-- targets have no `:`
pub free-no_colon : (T F : List (List Cell)) → Free (begins_separator joined_byte) T F → Each (is_no_colon joined_byte) T
free-no_colon [] F h = tt
free-no_colon (u ∷ T) F h = (ap not ((or_parts (is_colon joined_byte u) (is_ampersand joined_byte u && first_passes (is_colon joined_byte) (T ++ F)) h.0).0), free-no_colon T F h.1)

-- targets do not end in a `&` before a `:`
pub free-apart : (T F : List (List Cell)) → Free (begins_separator joined_byte) T F → (last_passes (is_ampersand joined_byte) T && first_passes (is_colon joined_byte) F) ≡ false
free-apart [] F h = refl
free-apart (u ∷ []) F h = (or_parts (is_colon joined_byte u) (is_ampersand joined_byte u && first_passes (is_colon joined_byte) F) h.0).1
free-apart (u ∷ v ∷ T) F h = free-apart (v ∷ T) F h.1

-- such targets have no separator among them
apart-free : (T F : List (List Cell)) → Each (is_no_colon joined_byte) T → (last_passes (is_ampersand joined_byte) T && first_passes (is_colon joined_byte) F) ≡ false → Free (begins_separator joined_byte) T F
apart-free [] F n a = tt
apart-free (u ∷ []) F n a = (ap (λ z. z || (is_ampersand joined_byte u && first_passes (is_colon joined_byte) F)) (not-true (is_colon joined_byte u) n.0) ∙ a, tt)
apart-free (u ∷ v ∷ T) F n a = (
  ap (λ z. z || (is_ampersand joined_byte u && is_colon joined_byte v)) (not-true (is_colon joined_byte u) n.0)
      ∙ (ap (λ z. is_ampersand joined_byte u && z) (not-true (is_colon joined_byte v) n.1.0) ∙ and-false (is_ampersand joined_byte u)),
  apart-free (v ∷ T) F n.1 a,
)

-- a text with other targets before its separator is taken apart there again
pub separated-targets : (us T : List (List Cell)) → begins_separator joined_byte (from (begins_separator joined_byte) us) ≡ true → Each (is_no_colon joined_byte) T
    → (last_passes (is_ampersand joined_byte) T && first_passes (is_colon joined_byte) (from (begins_separator joined_byte) us)) ≡ false
    → separated joined_byte (T ++ from (begins_separator joined_byte) us) ≡ record (separated joined_byte us) { targets = T }
separated-targets us T b n a =
    let F = from (begins_separator joined_byte) us in
    let r = free-until (begins_separator joined_byte) T F (apart-free T F n a) b in
    ap (λ z. separated_before joined_byte (separator_at (map (symbol joined_byte) z)) (until (begins_separator joined_byte) (T ++ F)) z) r.1
    ∙ ap (λ z. separated_before joined_byte (separator_at (map (symbol joined_byte) F)) z F) r.0

-- ---- the units

-- The units of a text with words renamed among some of them are those after the rename. What stands before a word is closed.
pub units-renamed : (o n : List ℕ) → IsNewWord n → (ts : List (Token Cell)) (t : List Cell) (B R : List (List Cell)) → AreTokens joined_byte ts → units joined_byte t ≡ B ++ (token_units ts ++ R)
    → (is_word_first ts ≡ true → is_closed joined_byte (concat B) ≡ true)
    → units joined_byte (concat B ++ (token_text (tokens_renamed o n ts) ++ concat R)) ≡ B ++ (token_units (tokens_renamed o n ts) ++ R)
units-renamed o n new [] t B R a h k = ap (units joined_byte) (sym (concat-append B R) ∙ (ap concat (sym h) ∙ concat-units joined_byte t)) ∙ h
units-renamed o n new (Gap u ∷ ts) t B R a h k =
    let X = token_text (tokens_renamed o n ts) ++ concat R in
    let h' : units joined_byte t ≡ (B ++ u ∷ []) ++ (token_units ts ++ R) = h ∙ sym (append_assoc B (u ∷ []) (token_units ts ++ R)) in
    let c : is_closed joined_byte (concat (B ++ u ∷ [])) ≡ true =
    EndsPlain-closed joined_byte t (B ++ u ∷ []) (token_units ts ++ R) (EndsPlain-append joined_byte B u [] (gap-plain joined_byte u a.0)) h' in
    let e : concat (B ++ u ∷ []) ++ X ≡ concat B ++ ((u ++ token_text (tokens_renamed o n ts)) ++ concat R) =
    ap (λ z. z ++ X) (concat-append B (u ∷ []) ∙ ap (λ z. concat B ++ z) (append-nil u)) ∙ (append_assoc (concat B) u X ∙ ap (λ z. concat B ++ z) (sym (append_assoc u (token_text (tokens_renamed o n ts)) (concat R)))) in
    ap (units joined_byte) (sym e) ∙ (units-renamed o n new ts t (B ++ u ∷ []) R a.1 h' (λ x. c) ∙ append_assoc B (u ∷ []) (token_units (tokens_renamed o n ts) ++ R))
units-renamed o n new (Word w ∷ ts) t B R a h k = go (is_word_of o w) (λ s C i. units-renamed o n new ts s C R a.2 i (λ x. absurd (let e : true ≡ false = sym x ∙ a.1 in cc)))
  where
    put : (x : List (List Cell)) → units joined_byte (concat (B ++ x) ++ (token_text (tokens_renamed o n ts) ++ concat R)) ≡ (B ++ x) ++ (token_units (tokens_renamed o n ts) ++ R)
        → units joined_byte (concat B ++ ((concat x ++ token_text (tokens_renamed o n ts)) ++ concat R)) ≡ B ++ ((x ++ token_units (tokens_renamed o n ts)) ++ R)
    put x i =
        let Y = token_text (tokens_renamed o n ts) in
        let e : concat (B ++ x) ++ (Y ++ concat R) ≡ concat B ++ ((concat x ++ Y) ++ concat R) =
        ap (λ z. z ++ (Y ++ concat R)) (concat-append B x) ∙ (append_assoc (concat B) (concat x) (Y ++ concat R) ∙ ap (λ z. concat B ++ z) (sym (append_assoc (concat x) Y (concat R)))) in
        ap (units joined_byte) (sym e) ∙ (i ∙ (append_assoc B x (token_units (tokens_renamed o n ts) ++ R) ∙ ap (λ z. B ++ z) (sym (append_assoc x (token_units (tokens_renamed o n ts)) R))))

    go : (c : Bool) → ((s : List Cell) (C : List (List Cell)) → units joined_byte s ≡ C ++ (token_units ts ++ R)
        → units joined_byte (concat C ++ (token_text (tokens_renamed o n ts) ++ concat R)) ≡ C ++ (token_units (tokens_renamed o n ts) ++ R))
        → units joined_byte (concat B ++ ((concat (cond c (cell_units n) w) ++ token_text (tokens_renamed o n ts)) ++ concat R)) ≡ B ++ ((cond c (cell_units n) w ++ token_units (tokens_renamed o n ts)) ++ R)
    go false i = put w (i t (B ++ w) (h ∙ (ap (λ z. B ++ z) (append_assoc w (token_units ts) R) ∙ sym (append_assoc B w (token_units ts ++ R)))))
    go true i =
        let V = map Byte n in
        let rest = token_units ts ++ R in
        let made = units-replaced joined_byte t V B w rest (k refl) (h ∙ ap (λ z. B ++ z) (append_assoc w (token_units ts) R)) new.closed in
        put (cell_units n) (i (concat B ++ (V ++ concat rest)) (B ++ cell_units n) (made ∙ sym (append_assoc B (cell_units n) rest)))
