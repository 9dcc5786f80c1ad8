-- Lemmas of marks that cover a text: what is not marked stands in no part of the text, and no unit is it.
use Rattle.std.proofs.Common.{◌≡◌, refl, sym, ap, ◌∙◌, ℕ, List, [], ◌∷◌, ◌++◌, Bool, true, false, ◌||◌, arith}
use Rattle.std.specs.List.{list_any}
use Rattle.std.proofs.lemmas.List.Folds.{list_any-append}
use Rattle.std.proofs.lemmas.List.{append-nil, append_assoc}
use Rattle.memchr.specs.Find.{is_byte, is_byte2, is_byte3}
use Rattle.mk_lines.specs.Lists.{concat, leading, after_leading}
use Rattle.mk_lines.proofs.on_lists.ListLemmas.{concat-append, leading-after_leading}
use Rattle.mk_lines.proofs.on_lists.BoolLemmas.{or-left_false, or-right_false}
use Rattle.mk_lines.specs.Units.{units}
use Rattle.mk_lines.proofs.on_units.UnitLemmas.{concat-units}
use Rattle.mk_class.specs.Marks.{is_marked, AreMarksOf, Cover}
use Rattle.mk_class.specs.declared.marks.Marks.{Marks}
use Rattle.mk_class.specs.TextClasses.{itself}
use Rattle.mk_class.specs.CutTexts.{is_in_head, head, after_head}
use Rattle.mk_class.specs.Symbols.{is_colon}
use Rattle.mk_class.specs.Separators.{has_colon, begins_separator, separator_length}
use Rattle.mk_class.specs.Scans.{AreSeparated, IsSplitAt}
use Rattle.mk_class.specs.HeadParts.{IsPatternSplit, IsBarSplit}
use Rattle.mk_class.specs.declared.rule.Separator.{Separator}
use Rattle.mk_class.proofs.ScanLemmas.{until-before, take-before}
use Rattle.mk_class.proofs.SearchLemmas.{absent-colon}
use Rattle.mk_class.proofs.HeaderPartLemmas.{split-is}

-- the marks of a text cover it
pub cover-own : (m : Marks) (t : List ℕ) → AreMarksOf m t → Cover m t
cover-own m t h k d l e = sym (h k d l) ∙ e

-- the bytes of a part are bytes of the text
part-any : (test : ℕ → Bool) (t r : List ℕ) (a b : List (List ℕ)) → units itself t ≡ a ++ (units itself r ++ b) → list_any test t ≡ false → list_any test r ≡ false
part-any test t r a b e h =
    let whole : t ≡ concat a ++ (r ++ concat b) = sym (concat-units itself t) ∙ (ap concat e ∙ (concat-append a (units itself r ++ b) ∙ ap (λ z. concat a ++ z) (concat-append (units itself r) b ∙ ap (λ z. z ++ concat b) (concat-units itself r)))) in
    let first : (list_any test (concat a) || list_any test (r ++ concat b)) ≡ false = sym (list_any-append test (concat a) (r ++ concat b)) ∙ (ap (list_any test) (sym whole) ∙ h) in
    let second : (list_any test r || list_any test (concat b)) ≡ false = sym (list_any-append test r (concat b)) ∙ or-right_false (list_any test (concat a)) (list_any test (r ++ concat b)) first in
    or-left_false (list_any test r) (list_any test (concat b)) second

-- marks that cover a text cover its parts
cover-part : (m : Marks) (t r : List ℕ) (a b : List (List ℕ)) → units itself t ≡ a ++ (units itself r ++ b) → Cover m t → Cover m r
cover-part m t r a b e h k d l n = part-any (is_byte _) t r a b e (h k d l n)

cover-front : (m : Marks) (t r : List ℕ) (b : List (List ℕ)) → units itself t ≡ units itself r ++ b → Cover m t → Cover m r
cover-front m t r b e h = cover-part m t r [] b e h

cover-rest : (m : Marks) (t r : List ℕ) (a : List (List ℕ)) → units itself t ≡ a ++ units itself r → Cover m t → Cover m r
cover-rest m t r a e h = cover-part m t r a [] (e ∙ ap (λ z. a ++ z) (sym (append-nil (units itself r)))) h

pub cover-leading : (m : Marks) (p : List ℕ → Bool) (t r : List ℕ) → units itself r ≡ leading p (units itself t) → Cover m t → Cover m r
cover-leading m p t r e h = cover-front m t r (after_leading p (units itself t)) (sym (leading-after_leading p (units itself t)) ∙ ap (λ z. z ++ after_leading p (units itself t)) (sym e)) h

-- a byte that is not marked
pub no_hash : (m : Marks) (t : List ℕ) → Cover m t → is_marked m 35 ≡ false → list_any (is_byte 35) t ≡ false
no_hash m t h e = h 0 0 (omega arith) e

pub no_equals : (m : Marks) (t : List ℕ) → Cover m t → is_marked m 61 ≡ false → list_any (is_byte 61) t ≡ false
no_equals m t h e = h 1 0 (omega arith) e

pub no_bar : (m : Marks) (t : List ℕ) → Cover m t → is_marked m 124 ≡ false → list_any (is_byte 124) t ≡ false
no_bar m t h e = h 4 0 (omega arith) e

either_none : (p q : ℕ → Bool) (t : List ℕ) → list_any p t ≡ false → list_any q t ≡ false → list_any (λ x. p x || q x) t ≡ false
either_none p q [] h k = refl
either_none p q (x ∷ t) h k =
    let a : (p x || q x) ≡ false = ap (λ c. c || q x) (or-left_false (p x) (list_any p t) h) ∙ or-left_false (q x) (list_any q t) k in
    ap (λ c. c || list_any (λ y. p y || q y) t) a ∙ either_none p q t (or-right_false (p x) (list_any p t) h) (or-right_false (q x) (list_any q t) k)

pub no_head_end : (m : Marks) (t : List ℕ) → Cover m t → (is_marked m 59 || is_marked m 35) ≡ false → list_any (is_byte2 59 35) t ≡ false
no_head_end m t h e =
    either_none (is_byte 59) (is_byte 35) t (h 2 0 (omega arith) (or-left_false (is_marked m 59) (is_marked m 35) e)) (no_hash m t h (or-right_false (is_marked m 59) (is_marked m 35) e))

pub no_unreadable : (m : Marks) (t : List ℕ) → Cover m t → (is_marked m 61 || (is_marked m 92 || is_marked m 36)) ≡ false → list_any (is_byte3 61 92 36) t ≡ false
no_unreadable m t h e =
    let f : (is_marked m 92 || is_marked m 36) ≡ false = or-right_false (is_marked m 61) (is_marked m 92 || is_marked m 36) e in
    either_none (λ x. is_byte 61 x || is_byte 92 x) (is_byte 36) t
    (either_none (is_byte 61) (is_byte 92) t (no_equals m t h (or-left_false (is_marked m 61) (is_marked m 92 || is_marked m 36) e)) (h 6 0 (omega arith) (or-left_false (is_marked m 92) (is_marked m 36) f)))
    (h 5 0 (omega arith) (or-right_false (is_marked m 92) (is_marked m 36) f))

-- a head without `:`, of a text that has none
pub no_colon-head : (m : Marks) (t : List ℕ) → Cover m t → is_marked m 58 ≡ false → has_colon itself (head itself (units itself t)) ≡ false
no_colon-head m t h e =
    let us = units itself t in
    or-left_false (has_colon itself (head itself us)) (has_colon itself (after_head itself us))
    (sym (list_any-append (is_colon itself) (head itself us) (after_head itself us)) ∙ (ap (has_colon itself) (leading-after_leading (is_in_head itself) us) ∙ absent-colon t (h 3 0 (omega arith) e)))

-- ---- the parts of a head

-- the parts on both sides of a byte
cover-split : (m : Marks) (byte : ℕ) (t p r : List ℕ) → IsSplitAt byte (units itself t) (units itself p) (units itself r) → Cover m t → Cover m p × Cover m r
cover-split m byte t p r h k =
    let e : units itself t ≡ units itself p ++ ((byte ∷ []) ∷ units itself r) = split-is byte (units itself t) (units itself p) (units itself r) h in (
      cover-front m t p ((byte ∷ []) ∷ units itself r) e k,
      cover-rest m t r (units itself p ++ ((byte ∷ []) ∷ [])) (e ∙ sym (append_assoc (units itself p) ((byte ∷ []) ∷ []) (units itself r))) k,
    )

-- a part without units
cover-none : (m : Marks) (t p : List ℕ) → units itself p ≡ [] → Cover m t → Cover m p
cover-none m t p e k = cover-front m t p (units itself t) (ap (λ z. z ++ units itself t) (sym e)) k

pub cover-targets : (m : Marks) (hd start rest targets : List ℕ) (s : Separator) → AreSeparated (units itself hd) s (units itself start) (units itself rest)
    → ((front : List (List ℕ)) → units itself hd ≡ front ++ units itself start → units itself targets ≡ front) → Cover m hd → Cover m targets
cover-targets m hd start rest targets s h f k =
    let e = until-before (begins_separator itself) hd start h.0 in
    cover-front m hd targets (units itself start) (e ∙ ap (λ z. z ++ units itself start) (sym (f _ e))) k

pub cover-separated : (m : Marks) (hd start rest : List ℕ) (s : Separator) → AreSeparated (units itself hd) s (units itself start) (units itself rest) → Cover m hd → Cover m rest
cover-separated m hd start rest s h k =
    cover-rest m start rest _ (take-before (separator_length s) start rest h.1.1) (cover-rest m hd start _ (until-before (begins_separator itself) hd start h.0) k)

pub cover-pattern : (m : Marks) (t p r : List ℕ) (found : Bool) → IsPatternSplit (units itself t) found (units itself p) (units itself r) → Cover m t → Cover m p × Cover m r
cover-pattern m t p r true h k = cover-split m 58 t p r h k
cover-pattern m t p r false h k = (cover-none m t p h.1 k, cover-rest m t r [] (sym h.2) k)

pub cover-order_only : (m : Marks) (t n o : List ℕ) (found : Bool) → IsBarSplit (units itself t) (units itself n) found (units itself o) → Cover m t → Cover m o
cover-order_only m t n o true h k = (cover-split m 124 t n o h k).1
cover-order_only m t n o false h k = cover-none m t o h.2 k
