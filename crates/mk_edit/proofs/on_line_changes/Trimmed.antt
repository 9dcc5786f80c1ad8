-- A text without the blanks at its ends goes from the start of its first word to the end of its last one.
use Rattle.std.proofs.Common.{◌≡◌, refl, sym, ap, ◌∙◌, subst, arith, ℕ, ◌+◌, ◌≤◌, List, [], ◌∷◌, ◌++◌, map, length, length-append, Bool, true, false}
use Rattle.std.specs.Prelude.{slice_range}
use Rattle.std.proofs.lemmas.List.{append-nil, length-map}
use Rattle.mk_lines.specs.Bytes.{is_blank_byte}
use Rattle.mk_lines.specs.Lists.{concat, leading, after_leading, trim_end, trim_end_before, trailing, FirstFails, LastFails}
use Rattle.mk_lines.specs.Cells.{Cell, Byte, joined_byte, joined_text}
use Rattle.mk_lines.specs.Units.{units}
use Rattle.mk_lines.specs.Words.{Token, Gap, Word, tokens, token_units, is_gap, IsWord, AreTokens}
use Rattle.mk_lines.specs.Ranges.{text_at, word_token_ranges, word_ranges}
use Rattle.mk_lines.specs.declared.split.Span.{Span}
use Rattle.mk_lines.proofs.on_lists.ListLemmas.{leading-after_leading, after_leading-append_all, after_leading-first_fails, trim_end-append, trim_end-trailing}
use Rattle.mk_lines.proofs.on_units.UnitLemmas.{concat-units, units-map}
use Rattle.mk_lines.proofs.on_units.TokenLemmas.{concat-map, is_gap-map, tokens-are_tokens, token_units-tokens}
use Rattle.mk_class.specs.ListTests.{first_passes, last_passes}
use Rattle.mk_class.specs.Texts.{unit_text}
use Rattle.mk_class.specs.TextClasses.{itself}
use Rattle.mk_class.specs.LocatedClasses.{width}
use Rattle.mk_class.specs.PartOffsets.{IsPart}
use Rattle.mk_class.proofs.on_symbols.ListMaps.{after_leading-map, trim_end-map}
use Rattle.mk_class.proofs.on_classes.PartOffsetLemmas.{part-is, width-append}
use Rattle.mk_edit_language.specs.LineChanges.{trimmed}
use Rattle.mk_edit_language.proofs.on_values.SetValueLemmas.{bytes-joined, unit_text-units}
use Rattle.mk_edit_parts.specs.WordCuts.{last_end}
use Rattle.mk_edit_parts.proofs.on_prerequisites.WordRangeLemmas.{part-ranges, units-last_end}

-- ---- the first word

-- whether a unit is a single blank
abbrev gap : List Cell → Bool
gap = is_gap joined_byte

word-leads : (w us : List (List Cell)) → IsWord joined_byte w → leading gap (w ++ us) ≡ []
word-leads [] us h = absurd h
word-leads (u ∷ []) us h = rw h refl
word-leads (u ∷ v ∷ w) us h = rw h.0 refl

word-stays : (w us : List (List Cell)) → IsWord joined_byte w → after_leading gap (w ++ us) ≡ [] → ⊥
word-stays [] us h n = absurd h
word-stays (u ∷ []) us h n =
    let z : after_leading gap (u ∷ us) ≡ u ∷ us = rw h refl in
    let q : u ∷ us ≡ [] = sym z ∙ n in
    absurd (cc)
word-stays (u ∷ v ∷ w) us h n =
    let z : after_leading gap (u ∷ (v ∷ w ++ us)) ≡ u ∷ (v ∷ w ++ us) = rw h.0 refl in
    let q : u ∷ (v ∷ w ++ us) ≡ [] = sym z ∙ n in
    absurd (cc)

-- the first word begins after the blanks at the front
first-start : (k : ℕ) (ts : List (Token Cell)) (s : Span) (ss : List Span) → AreTokens joined_byte ts → word_token_ranges k ts ≡ s ∷ ss → s.start ≡ k + width (leading gap (token_units ts))
first-start k [] s ss h e = absurd (cc)
first-start k (Gap u ∷ ts) s ss h e =
    let L = leading gap (token_units ts) in
    let z : leading gap (u ∷ token_units ts) ≡ u ∷ L = rw h.0 refl in
    let w : width (leading gap (u ∷ token_units ts)) ≡ length u + width L = ap width z ∙ length-append u (concat L) in
    let i : s.start ≡ k + length u + width L = first-start (k + length u) ts s ss h.1 e in
    omega (arith, w, i)
first-start k (Word w ∷ ts) s ss h e =
    let z : width (leading gap (w ++ token_units ts)) ≡ 0 = ap width (word-leads w (token_units ts) h.0) in
    let r : Span = record { start = k; end = k + length (concat w) } in
    let f : r ≡ s = cc in
    let q : s.start ≡ k = sym (ap (λ (x : Span). x.start) f) in
    omega (arith, z, q)

-- where there is a word, there is something after the blanks at the front
some-after : (k : ℕ) (ts : List (Token Cell)) (s : Span) (ss : List Span) → AreTokens joined_byte ts → word_token_ranges k ts ≡ s ∷ ss → after_leading gap (token_units ts) ≡ [] → ⊥
some-after k [] s ss h e n = absurd (cc)
some-after k (Gap u ∷ ts) s ss h e n =
    let z : after_leading gap (u ∷ token_units ts) ≡ after_leading gap (token_units ts) = rw h.0 refl in
    some-after (k + length u) ts s ss h.1 e (sym z ∙ n)
some-after k (Word w ∷ ts) s ss h e n = word-stays w (token_units ts) h.0 n

-- where there is no word, there is nothing
none-after : (k : ℕ) (ts : List (Token Cell)) → AreTokens joined_byte ts → word_token_ranges k ts ≡ [] → after_leading gap (token_units ts) ≡ []
none-after k [] h e = refl
none-after k (Gap u ∷ ts) h e =
    let z : after_leading gap (u ∷ token_units ts) ≡ after_leading gap (token_units ts) = rw h.0 refl in
    z ∙ none-after (k + length u) ts h.1 e
none-after k (Word w ∷ ts) h e = absurd (cc)

-- ---- the last word

kept-before : (b : Bool) (x : List Cell) (L : List (List Cell)) (u : List Cell) (M : List (List Cell)) → trim_end_before b x (L ++ u ∷ M) ≡ x ∷ (L ++ u ∷ M)
kept-before true x [] u M = refl
kept-before true x (y ∷ L) u M = refl
kept-before false x L u M = refl

-- what stands before units that are not all trimmed stays
trim-after : (L R : List (List Cell)) (u : List Cell) (M : List (List Cell)) → trim_end gap R ≡ u ∷ M → trim_end gap (L ++ R) ≡ L ++ u ∷ M
trim-after [] R u M h = h
trim-after (x ∷ L) R u M h = ap (trim_end_before (gap x) x) (trim-after L R u M h) ∙ kept-before (gap x) x L u M

trim-filled : (L R : List (List Cell)) → FirstFails gap R → (R ≡ [] → ⊥) → trim_end gap (L ++ R) ≡ L ++ trim_end gap R
trim-filled L [] h n = absurd (n refl)
trim-filled L (u ∷ R) h n =
    let z : trim_end gap (u ∷ R) ≡ u ∷ trim_end gap R = ap (λ b. trim_end_before b u (trim_end gap R)) h in
    trim-after L (u ∷ R) u (trim_end gap R) z ∙ ap (λ y. L ++ y) (sym z)

-- ---- a text by its bytes' cells

-- the cells of a text, and their units
abbrev text_cells : List ℕ → List Cell
text_cells t = map Byte t

abbrev text_units : List ℕ → List (List Cell)
text_units t = units joined_byte (text_cells t)

ranges-told : (t : List ℕ) → word_ranges t ≡ word_token_ranges 0 (tokens joined_byte (text_units t))
ranges-told t =
    let cs = text_cells t in
    let us = text_units t in
    let whole : us ≡ us ++ [] = sym (append-nil us) in
    let P : IsPart cs 0 (0 + width us) [] us = part-is cs 0 (0 + width us) [] us [] whole refl refl in
    let own : text_at (joined_text cs) (record { start = 0; end = 0 + width us }) ≡ t = P.text_is ∙ (unit_text-units cs ∙ bytes-joined t) in
    ap word_ranges (sym own) ∙ part-ranges cs 0 (0 + width us) [] us P

trimmed-told : (t : List ℕ) → trimmed t ≡ unit_text joined_byte (trim_end gap (after_leading gap (text_units t)))
trimmed-told t =
    let cs = text_cells t in
    let us = text_units t in
    let same = is_gap-map joined_byte itself in
    let own : units itself t ≡ map (map joined_byte) us = ap (units itself) (sym (bytes-joined t)) ∙ units-map joined_byte itself cs in
    ap (λ z. concat (trim_end (is_gap itself) (after_leading (is_gap itself) z))) own
    ∙ (ap (λ z. concat (trim_end (is_gap itself) z)) (after_leading-map (map joined_byte) gap (is_gap itself) same us)
    ∙ (ap concat (trim_end-map (map joined_byte) gap (is_gap itself) same (after_leading gap us)) ∙ concat-map joined_byte (trim_end gap (after_leading gap us))))

-- ---- the text

-- a text without words is all blanks
pub trimmed-none : (t : List ℕ) → word_ranges t ≡ [] → trimmed t ≡ []
trimmed-none t e =
    let us = text_units t in
    let n : after_leading gap (token_units (tokens joined_byte us)) ≡ [] = none-after 0 (tokens joined_byte us) (tokens-are_tokens joined_byte us) (sym (ranges-told t) ∙ e) in
    let m : after_leading gap us ≡ [] = ap (after_leading gap) (sym (token_units-tokens joined_byte us)) ∙ n in
    trimmed-told t ∙ ap (λ z. unit_text joined_byte (trim_end gap z)) m

-- a range of a text is that of the text without the blanks at its ends
pub record IsTrimmed (t : List ℕ) (start end : ℕ) : Type 0 where
  pub rises : start ≤ end
  pub within : end ≤ length t
  pub text_is : slice_range t start end ≡ trimmed t

-- so is the range from the start of the first word to the end of the last one
trimmed-words : (t : List ℕ) (s : Span) (ss : List Span) → word_ranges t ≡ s ∷ ss → IsTrimmed t s.start (last_end s.end ss)
trimmed-words t s ss e =
    let cs = text_cells t in
    let us = text_units t in
    let ts = tokens joined_byte us in
    let L = leading gap us in
    let R = after_leading gap us in
    let M = trim_end gap R in
    let T = trailing gap R in
    let apart = tokens-are_tokens joined_byte us in
    let back : token_units ts ≡ us = token_units-tokens joined_byte us in
    let r : word_token_ranges 0 ts ≡ s ∷ ss = sym (ranges-told t) ∙ e in
    let start : s.start ≡ width L = omega (arith, first-start 0 ts s ss apart r, ap (λ z. width (leading gap z)) back) in
    let some = λ (n : R ≡ []). some-after 0 ts s ss apart r (ap (after_leading gap) back ∙ n) in
    let kept : trim_end gap us ≡ L ++ M = ap (trim_end gap) (sym (leading-after_leading gap us)) ∙ trim-filled L R (after_leading-first_fails gap us) some in
    let last : last_end s.end ss ≡ width (trim_end gap us) = ap (last_end 0) (sym r) ∙ units-last_end us in
    let end : last_end s.end ss ≡ s.start + width M = omega (arith, last, ap width kept, width-append L M, start) in
    let whole : us ≡ L ++ (M ++ T) = sym (leading-after_leading gap us) ∙ ap (λ z. L ++ z) (sym (trim_end-trailing gap R)) in
    let P : IsPart cs s.start (last_end s.end ss) L M = part-is cs s.start (last_end s.end ss) L M T whole start end in
    record {
      rises = P.rises;
      within = omega (arith, P.within, length-map t Byte);
      text_is = ap (λ z. slice_range z s.start (last_end s.end ss)) (sym (bytes-joined t)) ∙ (P.text_is ∙ sym (trimmed-told t));
    }

-- so it is when the words after the first one are gone through, one by one
pub walk-trimmed : (t : List ℕ) (words next it left : List Span) (s : Span) (end : ℕ) → words ≡ word_ranges t → words ≡ s ∷ next → it ≡ next → last_end end left ≡ last_end s.end it → left ≡ []
    → IsTrimmed t s.start end
walk-trimmed t words next it left s end h k i l n =
    let e : last_end s.end next ≡ end = ap (last_end s.end) (sym i) ∙ (sym l ∙ ap (last_end end) n) in
    subst (IsTrimmed t s.start) e (trimmed-words t s next (sym h ∙ k))

-- ---- a text that neither begins nor ends with a blank

first-fails : (us : List (List ℕ)) → first_passes is_blank_byte (concat us) ≡ false → FirstFails (is_gap itself) us
first-fails [] h = tt
first-fails ([] ∷ us) h = refl
first-fails ((x ∷ []) ∷ us) h = h
first-fails ((x ∷ y ∷ u) ∷ us) h = refl

last-right : (a b : List ℕ) → last_passes is_blank_byte (a ++ b) ≡ false → last_passes is_blank_byte b ≡ false
last-right [] b h = h
last-right (x ∷ []) [] h = refl
last-right (x ∷ []) (y ∷ b) h = h
last-right (x ∷ z ∷ a) b h = last-right (z ∷ a) b h

last-fails : (us : List (List ℕ)) → last_passes is_blank_byte (concat us) ≡ false → LastFails (is_gap itself) us
last-fails [] h = tt
last-fails ([] ∷ []) h = refl
last-fails ((x ∷ []) ∷ []) h = h
last-fails ((x ∷ y ∷ u) ∷ []) h = refl
last-fails (u ∷ v ∷ us) h = last-fails (v ∷ us) (last-right u (concat (v ∷ us)) h)

-- has no blanks at its ends
pub trimmed-whole : (t : List ℕ) → first_passes is_blank_byte t ≡ false → last_passes is_blank_byte t ≡ false → trimmed t ≡ t
trimmed-whole t f l =
    let us = units itself t in
    let e : concat us ≡ t = concat-units itself t in
    let a : after_leading (is_gap itself) us ≡ us = after_leading-append_all (is_gap itself) [] us tt (first-fails us (ap (first_passes is_blank_byte) e ∙ f)) in
    let b : trim_end (is_gap itself) us ≡ us =
    ap (trim_end (is_gap itself)) (sym (append-nil us)) ∙ trim_end-append (is_gap itself) us [] (last-fails us (ap (last_passes is_blank_byte) e ∙ l)) tt in
    ap (λ z. concat (trim_end (is_gap itself) z)) a ∙ (ap concat b ∙ e)
