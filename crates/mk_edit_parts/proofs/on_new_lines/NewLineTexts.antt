-- The words of the text of a new line, cut one after the other.
use Rattle.std.proofs.Common.{◌≡◌, refl, sym, ap, ◌∙◌, arith, ℕ, ◌+◌, ◌<◌, ◌≤◌, List, [], ◌∷◌, ◌++◌, length, append_assoc}
use Rattle.std.proofs.Common.{length-append}
use Rattle.std.specs.Prelude.{◌==◌, OnOk, Result, Ok, Err}
use Rattle.std.specs.declared.alloc.AllocError.{AllocError}
use Rattle.mk_lines.specs.Lists.{concat, leading, after_leading}
use Rattle.mk_lines.specs.Ranges.{word_token_ranges}
use Rattle.mk_lines.specs.Units.{units}
use Rattle.mk_lines.specs.Words.{Token, Gap, Word, tokens, token_words, words_in}
use Rattle.mk_lines.proofs.on_lists.ListLemmas.{leading-after_leading}
use Rattle.mk_lines.proofs.UnitWalkLemmas.{words_left-blanks}
use Rattle.mk_lines.specs.Bytes.{is_blank_byte}
use Rattle.mk_class.specs.RecipePrefix.{is_prefix_led}
use Rattle.mk_lines.specs.Spacing.{each_after_space, spaced_words}
use Rattle.mk_edit_language.specs.NewLines.{rule_separator_text, rule_text}
use Rattle.mk_edit_language.specs.declared.edit.RuleSeparator.{RuleSeparator}
use Rattle.mk_edit_language.specs.declared.edit.RuleSeparator.TheVariants.{Single, Double}

-- a word and what follows it are no longer than what they are cut from
pub cut-lengths : (rest word after : List ℕ) → word ++ after ≡ after_leading is_blank_byte rest → length word + length after ≤ length rest
cut-lengths rest word after h =
    omega (arith, ap length h, length-append word after, ap length (leading-after_leading is_blank_byte rest), length-append (leading is_blank_byte rest) (after_leading is_blank_byte rest))

-- ---- no word is empty

-- there are as many ranges as words
ranges-count : (at : ℕ) (ts : List (Token ℕ)) → length (word_token_ranges at ts) ≡ length (token_words ts)
ranges-count at [] = refl
ranges-count at (Gap u ∷ ts) = ranges-count (at + length u) ts
ranges-count at (Word w ∷ ts) = omega (arith, ranges-count (at + length (concat w)) ts)

-- blanks at the front change no number of words
blanks-count : (t : List ℕ) → length (words_in t) ≡ length (words_in (after_leading is_blank_byte t))
blanks-count t =
    let n = length t in
    let s = after_leading is_blank_byte t in
    sym (ranges-count _ (tokens (λ b. b) (units (λ b. b) t)))
    ∙ (ap length (words_left-blanks n t (omega arith)) ∙ ranges-count _ (tokens (λ b. b) (units (λ b. b) s)))

word-some : (rest word after : List ℕ) → words_in rest ≡ word ∷ words_in after → word ++ after ≡ after_leading is_blank_byte rest → 0 < length word
word-some rest [] after w j = absurd (omega (arith, blanks-count rest, ap (λ t. length (words_in t)) j, ap length w))
word-some rest (b ∷ word) after w j = omega arith

-- ---- what is put after some bytes

-- the words of a text, the first of which was put before
pub joined-put : (r : Result (Unit {0}) AllocError) (text word after old mid new : List ℕ) → words_in text ≡ word ∷ words_in after
    → mid ≡ old ++ word → OnOk r (new ≡ mid ++ each_after_space (words_in after)) → OnOk r (new ≡ old ++ spaced_words (words_in text))
joined-put (Err e) text word after old mid new w m h = tt
joined-put (Ok x) text word after old mid new w m h =
    let joined : spaced_words (words_in text) ≡ word ++ each_after_space (words_in after) = ap spaced_words w in
    h ∙ (ap (λ z. z ++ each_after_space (words_in after)) m ∙ (append_assoc old word (each_after_space (words_in after)) ∙ ap (λ z. old ++ z) (sym joined)))

-- ---- how a rule begins

begins-some : (p : ℕ) (word a b : List ℕ) → 0 < length word → is_prefix_led p (word ++ a) ≡ is_prefix_led p (word ++ b)
begins-some p [] a b h = absurd (omega arith)
begins-some p (x ∷ word) a b h = refl

-- a rule begins with its first target
pub rule-begins : (p : ℕ) (text word after : List ℕ) (c : RuleSeparator) (prereqs : List ℕ) → words_in text ≡ word ∷ words_in after → word ++ after ≡ after_leading is_blank_byte text
    → is_prefix_led p (word ++ 58 ∷ []) ≡ is_prefix_led p (rule_text text c prereqs)
rule-begins p text word after c prereqs w j =
    let some = word-some text word after w j in
    let rest = rule_separator_text c ++ each_after_space (words_in prereqs) in
    let more = each_after_space (words_in after) in
    begins-some p word (58 ∷ []) (more ++ rest) some
    ∙ (ap (is_prefix_led p) (sym (append_assoc word more rest))
    ∙ ap (λ z. is_prefix_led p (z ++ rest)) (sym (ap spaced_words w)))

-- or, where it has none, with its separator
pub rule-begins_bare : (p : ℕ) (text : List ℕ) (c : RuleSeparator) (prereqs : List ℕ) → words_in text ≡ [] → (58 == p) ≡ is_prefix_led p (rule_text text c prereqs)
rule-begins_bare p text Single prereqs w = ap (λ ws. is_prefix_led p (spaced_words ws ++ (58 ∷ [] ++ each_after_space (words_in prereqs)))) (sym w)
rule-begins_bare p text Double prereqs w = ap (λ ws. is_prefix_led p (spaced_words ws ++ (58 ∷ 58 ∷ [] ++ each_after_space (words_in prereqs)))) (sym w)
