-- Lemmas of first words.
use Rattle.std.proofs.Common.{◌≡◌, refl, sym, ap, ◌∙◌, arith, ℕ, suc, zero, ◌-◌, ◌<◌, Bool, true, false, cond, None, List, [], ◌∷◌, length, take, drop}
use Rattle.std.specs.Prelude.{if◌then◌else◌, ◌||◌, ◌==◌, codes}
use Rattle.std.specs.Str.{bytes_eq}
use Rattle.std.proofs.lemmas.Bool.{eqb-true, false≢true}
use Rattle.std.proofs.lemmas.Slice.Eq.{bytes_eq-Decides}
use Rattle.mk_lines.specs.Bytes.{is_blank_byte}
use Rattle.mk_lines.specs.Lists.{after_leading}
use Rattle.mk_lines.specs.UnitWalk.{after_word}
use Rattle.mk_lines.specs.Words.{words}
use Rattle.mk_lines.proofs.UnitWalkLemmas.{after_word-shorter, words-cut}
use Rattle.mk_class.specs.ClassTable.{directive, directive_by}
use Rattle.mk_class.specs.FirstWords.{text_words}
use Rattle.mk_class.specs.Keywords.{after_modifiers, begins_reserved, directive_words, if_words, keyword, may_begin_reserved, modifier_words}
use Rattle.mk_class.specs.Keywords.Keyword.{DefineWord, EndefWord, IfWord, ElseWord, EndifWord, DirectiveWord, UndefineWord, NoKeyword}
use Rattle.mk_class.specs.ListTests.{first_passes}
use Rattle.mk_class.specs.Texts.{is_one_of}
use Rattle.mk_class.proofs.on_classes.FirstWordLemmas.{text_words-words}

-- the words of a text where its first is cut off, and where it has none
pub text_words-first : (t w r : List ℕ) → words (λ b. b) t ≡ w ∷ words (λ b. b) r → text_words t ≡ w ∷ text_words r
text_words-first t w r h = text_words-words t ∙ (h ∙ ap (λ ws. w ∷ ws) (sym (text_words-words r)))

pub text_words-none : (t : List ℕ) → words (λ b. b) t ≡ [] → text_words t ≡ []
text_words-none t h = text_words-words t ∙ h

pub ruleset word_rules = (text_words-first, text_words-none)

-- ---- words whose first byte begins no reserved word

-- the words of a list all begin with a byte that begins a reserved word
abbrev AllBegin : List (List ℕ) → Type 0
AllBegin [] = Unit {0}
AllBegin (w ∷ ws) = (first_passes begins_reserved w ≡ true) × AllBegin ws

differs : (x : ℕ) (f w : List ℕ) → begins_reserved x ≡ false → first_passes begins_reserved w ≡ true → bytes_eq (x ∷ f) w ≡ false
differs x f w h k = go (bytes_eq (x ∷ f) w) refl
  where
    go : (c : Bool) → bytes_eq (x ∷ f) w ≡ c → c ≡ false
    go true e = absurd (false≢true (sym h ∙ (ap (first_passes begins_reserved) ((bytes_eq-Decides (x ∷ f) w).0 e) ∙ k)))
    go false e = refl

differs-all : (x : ℕ) (f : List ℕ) (ws : List (List ℕ)) → begins_reserved x ≡ false → AllBegin ws → is_one_of (x ∷ f) ws ≡ false
differs-all x f [] h k = refl
differs-all x f (w ∷ ws) h k = ap (λ c. c || is_one_of (x ∷ f) ws) (differs x f w h k.0) ∙ differs-all x f ws h k.1

no-keyword : (x : ℕ) (f : List ℕ) → begins_reserved x ≡ false → keyword (x ∷ f) ≡ NoKeyword
no-keyword x f h =
    go _ _ _ _ _ _ _ (differs x f (codes "define") h refl) (differs x f (codes "endef") h refl) (differs-all x f if_words h (refl, (refl, (refl, (refl, tt)))))
    (differs x f (codes "else") h refl) (differs x f (codes "endif") h refl)
    (differs-all x f directive_words h (refl, (refl, (refl, (refl, (refl, (refl, (refl, (refl, tt))))))))) (differs x f (codes "undefine") h refl)
  where
    go : (a b c d e g i : Bool) → a ≡ false → b ≡ false → c ≡ false → d ≡ false → e ≡ false → g ≡ false → i ≡ false
        → (if a then DefineWord else if b then EndefWord else if c then IfWord else if d then ElseWord else if e then EndifWord else if g then DirectiveWord else if i then UndefineWord else NoKeyword) ≡ NoKeyword
    go true b c d e g i p q r s t u v = absurd (false≢true (sym p))
    go false true c d e g i p q r s t u v = absurd (false≢true (sym q))
    go false false true d e g i p q r s t u v = absurd (false≢true (sym r))
    go false false false true e g i p q r s t u v = absurd (false≢true (sym s))
    go false false false false true g i p q r s t u v = absurd (false≢true (sym t))
    go false false false false false true i p q r s t u v = absurd (false≢true (sym u))
    go false false false false false false true p q r s t u v = absurd (false≢true (sym v))
    go false false false false false false false p q r s t u v = refl

no-directive : (c : Bool) (w : List ℕ) (ws : List (List ℕ)) → keyword w ≡ NoKeyword → is_one_of w modifier_words ≡ false → directive c (w ∷ ws) ≡ None
no-directive c w ws h k =
    let bare : after_modifiers (w ∷ ws) ≡ w ∷ ws = ap (λ b. cond b (after_modifiers ws) (w ∷ ws)) k in
    rw bare (ap (λ m. directive_by m m c (w ∷ ws)) h)

not-empty : (x : ℕ) (s : List ℕ) → (length (x ∷ s) == 0) ≡ false
not-empty x s = go (length (x ∷ s) == 0) refl
  where
    go : (c : Bool) → (length (x ∷ s) == 0) ≡ c → c ≡ false
    go true e = absurd (omega (arith, eqb-true (length (x ∷ s)) 0 e))
    go false e = refl

-- a text whose first byte may begin no reserved word says nothing
pub begins-no_directive : (c : Bool) (t : List ℕ) → first_passes may_begin_reserved t ≡ false → directive c (text_words t) ≡ None
begins-no_directive c [] h = refl
begins-no_directive c (x ∷ s) h =
    let t = x ∷ s in
    let plain : is_blank_byte x ≡ false = or-left (is_blank_byte x) (begins_reserved x) h in
    let whole : t ≡ after_leading is_blank_byte t = ap (λ b. cond b (after_leading is_blank_byte s) t) (sym plain) in
    let after = after_word t in
    let some : length after < length t = after_word-shorter t t after whole (not-empty x s) refl in
    let cut = words-cut t t after _ _ whole (not-empty x s) refl refl refl in
    first (length t - length after) (omega (arith, some)) cut
  where
    or-left : (a b : Bool) → (a || b) ≡ false → a ≡ false
    or-left true b e = e
    or-left false b e = refl

    or-right : (a b : Bool) → (a || b) ≡ false → b ≡ false
    or-right true b e = absurd (false≢true (sym e))
    or-right false b e = e

    first : (n : ℕ) → 0 < n → words (λ b. b) (x ∷ s) ≡ take n (x ∷ s) ∷ words (λ b. b) (drop n (x ∷ s)) → directive c (text_words (x ∷ s)) ≡ None
    first zero p e = absurd (omega (arith, p))
    first (suc n) p e =
        let other = or-right (is_blank_byte x) (begins_reserved x) h in
        ap (directive c) (text_words-first (x ∷ s) (x ∷ take n s) (drop n s) e)
        ∙ no-directive c (x ∷ take n s) (text_words (drop n s)) (no-keyword x (take n s) other) (differs-all x (take n s) modifier_words other (refl, (refl, (refl, tt))))
