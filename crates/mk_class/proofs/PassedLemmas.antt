-- Lemmas of bytes that are units by themselves: those at the front of a text, which a search passes over, and the blanks at its end.
use Rattle.std.proofs.Common.{◌≡◌, refl, sym, ap, ◌∙◌, ℕ, zero, suc, ◌-◌, ◌≤◌, List, [], ◌∷◌, ◌++◌, Bool, true, false, ◌||◌, ◌&&◌, ◌==◌, cond, not, subst, ◌<◌, length, length-append, take, drop, map, get_or, arith}
use Rattle.std.specs.Prelude.{Option, Some, None}
use Rattle.std.specs.Option.{is_some, unwrap_or}
use Rattle.std.specs.List.{list_any}
use Rattle.std.proofs.Math.Bool.{and-false}
use Rattle.std.proofs.Math.Seq.{take-length, drop-cons}
use Rattle.std.proofs.lemmas.List.{get_or-take, length-take, length-take-le, take-append-drop, take_rest}
use Rattle.std.proofs.lemmas.List.Folds.{list_any-append}
use Rattle.memchr.specs.Find.{IsFirstByte, is_byte, is_byte2, is_byte3}
use Rattle.mk_lines.specs.Bytes.{is_blank_byte}
use Rattle.mk_lines.specs.FirstUnit.{first_unit, unit_at}
use Rattle.mk_lines.specs.Lists.{after_leading, trailing, trim_end, Each, LastFails}
use Rattle.mk_lines.specs.Units.{units}
use Rattle.mk_lines.specs.Units.Mark.{Dollar, Escape, OpenParen, CloseParen, OpenBrace, CloseBrace, Unmarked}
use Rattle.mk_lines.specs.Words.{is_gap}
use Rattle.mk_lines.proofs.on_lists.BoolLemmas.{or-left_false, or-right_false}
use Rattle.mk_lines.proofs.on_lists.ListLemmas.{trailing-append, trim_end-trailing}
use Rattle.mk_lines.proofs.on_units.FirstUnitLemmas.{units-first_unit}
use Rattle.mk_class.specs.ListTests.{first_passes, last_passes, from}
use Rattle.mk_class.specs.Scans.{is_one_byte_of, is_other}
use Rattle.mk_class.specs.Separators.{begins_separator}
use Rattle.mk_class.specs.Symbols.{is_ampersand, is_colon}
use Rattle.mk_class.specs.TextClasses.{itself}
use Rattle.mk_class.proofs.ArgumentLemmas.{last_passes-at}
use Rattle.mk_class.proofs.HeaderLemmas.{is_colon-byte}
use Rattle.mk_class.proofs.SearchLemmas.{absent-unit, begins-one, search-no_some, search-none}
use Rattle.mk_class.proofs.on_symbols.ListMaps.{trailing-map}

-- a byte that is neither a dollar nor a backslash is a unit by itself
first_unit-single : (x : ℕ) (t : List ℕ) → is_byte2 36 92 x ≡ false → first_unit itself (x ∷ t) ≡ x ∷ []
first_unit-single x t h =
    ap (λ c. unit_at itself (cond c Dollar (cond (x == 92) Escape (cond (x == 40) OpenParen (cond (x == 41) CloseParen (cond (x == 123) OpenBrace (cond (x == 125) CloseBrace Unmarked)))))) x t) (or-left_false (x == 36) (x == 92) h)
    ∙ (ap (λ c. unit_at itself (cond c Escape (cond (x == 40) OpenParen (cond (x == 41) CloseParen (cond (x == 123) OpenBrace (cond (x == 125) CloseBrace Unmarked))))) x t) (or-right_false (x == 36) (x == 92) h)
    ∙ other (x == 40) (x == 41) (x == 123) (x == 125))
  where
    other : (a b c d : Bool) → unit_at itself (cond a OpenParen (cond b CloseParen (cond c OpenBrace (cond d CloseBrace Unmarked)))) x t ≡ x ∷ []
    other true b c d = refl
    other false true c d = refl
    other false false true d = refl
    other false false false true = refl
    other false false false false = refl

-- and what follows it is the rest of the text
units-single : (x : ℕ) (t : List ℕ) → is_byte2 36 92 x ≡ false → units itself (x ∷ t) ≡ (x ∷ []) ∷ units itself t
units-single x t h = units-first_unit itself x t ∙ ap (λ u. u ∷ units itself (drop (length u) (x ∷ t))) (first_unit-single x t h)

-- the bytes that a search passes over all fail its test
search-passed : (test : ℕ → Bool) (t : List ℕ) (r : Option ℕ) → IsFirstByte test t r → list_any test (take (unwrap_or r (length t)) t) ≡ false
search-passed test t None h = ap (list_any test) (take-length t) ∙ search-none test t h
search-passed test t (Some k) h =
    search-none test (take k t)
    (λ i l m p. let n : i < k = omega (arith, length-take k t) in h.0.before i l n (ap test (sym (get_or-take k t i 0 n)) ∙ p))

-- ---- the first unit that is a byte

-- a byte other than this one is another unit
other_byte : (a x : ℕ) → (x == a) ≡ false → is_one_byte_of (a ∷ []) (x ∷ []) ≡ false
other_byte a x h = absent-unit (is_byte a) (is_one_byte_of (a ∷ [])) (begins-one a) refl (x ∷ []) (ap (λ c. c || false) h)

-- bytes that are neither this byte nor begin a longer unit do not matter to what follows from this byte on
passed-over : (a k : ℕ) (t : List ℕ) → list_any (is_byte3 36 92 a) (take k t) ≡ false
    → after_leading (is_other (a ∷ [])) (units itself (drop k t)) ≡ after_leading (is_other (a ∷ [])) (units itself t)
passed-over a zero t h = refl
passed-over a (suc k) [] h = refl
passed-over a (suc k) (x ∷ t) h =
    let first : is_byte3 36 92 a x ≡ false = or-left_false (is_byte3 36 92 a x) (list_any (is_byte3 36 92 a) (take k t)) h in
    passed-over a k t (or-right_false (is_byte3 36 92 a x) (list_any (is_byte3 36 92 a) (take k t)) h)
    ∙ sym (
    ap (after_leading (is_other (a ∷ []))) (units-single x t (or-left_false (is_byte2 36 92 x) (x == a) first))
    ∙ ap (λ c. cond (not c) (after_leading (is_other (a ∷ [])) (units itself t)) ((x ∷ []) ∷ units itself t)) (other_byte a x (or-right_false (is_byte2 36 92 x) (x == a) first))
    )

-- what stands before the first dollar, backslash or such byte is passed over
pub search-over : (a n : ℕ) (t : List ℕ) (r : Option ℕ) → IsFirstByte (is_byte3 36 92 a) t r → n ≡ unwrap_or r (length t)
    → after_leading (is_other (a ∷ [])) (units itself (take (length t - n) (drop n t))) ≡ after_leading (is_other (a ∷ [])) (units itself t)
search-over a n t r h e =
    ap (λ z. after_leading (is_other (a ∷ [])) (units itself z)) (take_rest t n)
    ∙ (ap (λ m. after_leading (is_other (a ∷ [])) (units itself (drop m t))) e ∙ passed-over a (unwrap_or r (length t)) t (search-passed (is_byte3 36 92 a) t r h))

-- ---- the first separator

-- such a byte is no unit `:`, and neither is the first unit of a text that begins with such a byte, or is empty
no_colon : (x : ℕ) → is_byte3 36 92 58 x ≡ false → is_colon itself (x ∷ []) ≡ false
no_colon x h = sym (is_colon-byte (x ∷ [])) ∙ other_byte 58 x (or-right_false (is_byte2 36 92 x) (x == 58) h)

no_first_colon : (k : ℕ) (t : List ℕ) → list_any (is_byte3 36 92 58) (take (suc k) t) ≡ false → first_passes (is_colon itself) (units itself t) ≡ false
no_first_colon k [] h = refl
no_first_colon k (x ∷ t) h =
    let first : is_byte3 36 92 58 x ≡ false = or-left_false (is_byte3 36 92 58 x) (list_any (is_byte3 36 92 58) (take k t)) h in
    ap (first_passes (is_colon itself)) (units-single x t (or-left_false (is_byte2 36 92 x) (x == 58) first)) ∙ no_colon x first

-- no separator begins before the last of the bytes that are passed over
passed-before : (k : ℕ) (t : List ℕ) → list_any (is_byte3 36 92 58) (take (suc k) t) ≡ false
    → from (begins_separator itself) (units itself (drop k t)) ≡ from (begins_separator itself) (units itself t)
passed-before zero t h = refl
passed-before (suc k) [] h = refl
passed-before (suc k) (x ∷ t) h =
    let first : is_byte3 36 92 58 x ≡ false = or-left_false (is_byte3 36 92 58 x) (list_any (is_byte3 36 92 58) (take (suc k) t)) h in
    let more : list_any (is_byte3 36 92 58) (take (suc k) t) ≡ false = or-right_false (is_byte3 36 92 58 x) (list_any (is_byte3 36 92 58) (take (suc k) t)) h in
    let none : begins_separator itself ((x ∷ []) ∷ units itself t) ≡ false =
    ap (λ c. c || (is_ampersand itself (x ∷ []) && first_passes (is_colon itself) (units itself t))) (no_colon x first)
    ∙ (ap (λ c. is_ampersand itself (x ∷ []) && c) (no_first_colon k t more) ∙ and-false (is_ampersand itself (x ∷ []))) in
    passed-before k t more
    ∙ sym (
    ap (from (begins_separator itself)) (units-single x t (or-left_false (is_byte2 36 92 x) (x == 58) first))
    ∙ ap (λ c. cond c ((x ∷ []) ∷ units itself t) (from (begins_separator itself) (units itself t))) none
    )

-- the same of the text from the last of these bytes on, or from its front where there are none
pub search-before : (n m : ℕ) (t : List ℕ) (r : Option ℕ) → IsFirstByte (is_byte3 36 92 58) t r → n ≡ unwrap_or r (length t) → m ≡ n - 1
    → from (begins_separator itself) (units itself (take (length t - m) (drop m t))) ≡ from (begins_separator itself) (units itself t)
search-before n m t r h e f =
    ap (λ z. from (begins_separator itself) (units itself z)) (take_rest t m)
    ∙ (ap (λ k. from (begins_separator itself) (units itself (drop k t))) f ∙ go n (ap (λ k. list_any (is_byte3 36 92 58) (take k t)) e ∙ search-passed (is_byte3 36 92 58) t r h))
  where
    less_one : (k : ℕ) → suc k - 1 ≡ k
    less_one k = omega arith

    go : (n : ℕ) → list_any (is_byte3 36 92 58) (take n t) ≡ false → from (begins_separator itself) (units itself (drop (n - 1) t)) ≡ from (begins_separator itself) (units itself t)
    go zero e = refl
    go (suc k) e = ap (λ m. from (begins_separator itself) (units itself (drop m t))) (less_one k) ∙ passed-before k t e

-- ---- the blanks at the end

-- the units of a text without a dollar and a backslash are its bytes
units-bytes : (t : List ℕ) → list_any (is_byte2 36 92) t ≡ false → units itself t ≡ map (λ b. b ∷ []) t
units-bytes [] h = refl
units-bytes (x ∷ t) h =
    units-single x t (or-left_false (is_byte2 36 92 x) (list_any (is_byte2 36 92) t) h)
    ∙ ap (λ us. (x ∷ []) ∷ us) (units-bytes t (or-right_false (is_byte2 36 92 x) (list_any (is_byte2 36 92) t) h))

-- the last element fails the test, if there is one
last-fails : (p : ℕ → Bool) (t : List ℕ) → last_passes p t ≡ false → LastFails p t
last-fails p [] h = tt
last-fails p (x ∷ []) h = h
last-fails p (x ∷ y ∷ t) h = last-fails p (y ∷ t) h

-- the last of the first bytes
last-taken : (p : ℕ → Bool) (k : ℕ) (t : List ℕ) → suc k ≤ length t → last_passes p (take (suc k) t) ≡ p (get_or t k 0)
last-taken p k t h =
    let n : length (take (suc k) t) ≡ suc k = length-take-le (suc k) t h in
    let m : length (take (suc k) t) - 1 ≡ k = omega (arith, n) in
    last_passes-at p (take (suc k) t) (omega (arith, n))
    ∙ (ap (λ i. p (get_or (take (suc k) t) i 0)) m ∙ ap p (get_or-take (suc k) t k 0 (omega arith)))

-- one blank more at the end
pub blanks-step : (n : ℕ) (t : List ℕ) → n ≤ length t → last_passes is_blank_byte (take n t) ≡ true → Each is_blank_byte (drop n t) → Each is_blank_byte (drop (n - 1) t)
blanks-step zero t l h e = e
blanks-step (suc k) t l h e =
    let m : suc k - 1 ≡ k = omega arith in
    subst (Each is_blank_byte) (sym (ap (λ i. drop i t) m ∙ drop-cons t k 0 l)) (sym (last-taken is_blank_byte k t l) ∙ h, e)

-- blanks after a byte that is none are all that are trailing
pub blanks-whole : (n : ℕ) (t : List ℕ) → last_passes is_blank_byte (take n t) ≡ false → Each is_blank_byte (drop n t) → take (length t - n) (drop n t) ≡ trailing is_blank_byte t
blanks-whole n t h e =
    take_rest t n
    ∙ (sym (trailing-append is_blank_byte (take n t) (drop n t) (last-fails is_blank_byte (take n t) h) e) ∙ ap (trailing is_blank_byte) (take-append-drop n t))

-- the blanks at the end of a text without a dollar and a backslash are the blanks among its bytes
pub blanks-bytes : (t b : List ℕ) (r : Option ℕ) → IsFirstByte (is_byte2 36 92) t r → is_some r ≡ false → b ≡ trailing is_blank_byte t → units itself b ≡ trailing (is_gap itself) (units itself t)
blanks-bytes t b r h s e =
    let none : list_any (is_byte2 36 92) t ≡ false = search-no_some (is_byte2 36 92) t r h s in
    let whole : t ≡ trim_end is_blank_byte t ++ b = sym (trim_end-trailing is_blank_byte t) ∙ ap (λ z. trim_end is_blank_byte t ++ z) (sym e) in
    let own : list_any (is_byte2 36 92) b ≡ false =
    or-right_false (list_any (is_byte2 36 92) (trim_end is_blank_byte t)) (list_any (is_byte2 36 92) b)
    (sym (list_any-append (is_byte2 36 92) (trim_end is_blank_byte t) b) ∙ (ap (list_any (is_byte2 36 92)) (sym whole) ∙ none)) in
    units-bytes b own
    ∙ (ap (map (λ x. x ∷ [])) e
    ∙ (sym (trailing-map (λ x. x ∷ []) is_blank_byte (is_gap itself) (λ x. refl) t) ∙ ap (trailing (is_gap itself)) (sym (units-bytes t none))))

-- these are no more than the bytes of the text
pub blanks-shorter : (t b : List ℕ) → b ≡ trailing is_blank_byte t → length b ≤ length t
blanks-shorter t b e =
    let whole : trim_end is_blank_byte t ++ b ≡ t = ap (λ z. trim_end is_blank_byte t ++ z) e ∙ trim_end-trailing is_blank_byte t in
    omega (arith, length-append (trim_end is_blank_byte t) b, ap length whole)
