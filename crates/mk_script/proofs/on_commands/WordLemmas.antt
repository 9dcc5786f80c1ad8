-- The words that end the blocks of a line.
use Rattle.std.proofs.Common.{◌≡◌, ℕ, ◌-◌, ◌++◌, Bool, true, false, List, [], ◌∷◌, map, refl, sym, ap, ◌∙◌}
use Rattle.std.specs.Prelude.{nat_lt, Option, Some, None, option_map, option_and_then}
use Rattle.std.specs.List.{cons_option}
use Rattle.std.proofs.lemmas.List.{append_assoc}
use Rattle.std.proofs.lemmas.Option.{some_pair_parts}
use Rattle.mk_script.specs.Fields.{Field, text}
use Rattle.mk_script.specs.Blocks.{end_word, block_text}
use Rattle.mk_script.specs.Lines.{Saying, Says}
use Rattle.mk_script.specs.FieldReading.{fields_within}
use Rattle.mk_script.specs.SeenFields.{field_texts, seen}
use Rattle.mk_script.specs.declared.field.Field as code
use Rattle.mk_script.specs.CommandReading.{Texts, saying_in}
use Rattle.mk_script.specs.BlockReading.{until_word, some_block, filled_by, filled_field, filled_fields, plain_fields, texts_below, texts_of_line, said_from}
use Rattle.mk_script.specs.BlockWords.{word_of, words_among, words_of, block_words, behind_words}
use Rattle.mk_script.specs.ScriptLaws.{BlocksEndAtTheirWords}
use Rattle.mk_script.proofs.on_commands.TableLemmas.{chained, mapped}
use Rattle.mk_script.proofs.on_commands.FilledLemmas.{count-seen, more-filled}
use Rattle.mk_script.proofs.on_commands.SayingLemmas.{has-saying}

abbrev Lines : Type 0
Lines = List (List ℕ)

-- ---- the words of fields, one after the other

one-put : (front : Lines) (o : Option (List ℕ)) (words : Lines) → (front ++ cons_option o []) ++ words ≡ front ++ cons_option o words
one-put front None words = append_assoc front [] words
one-put front (Some word) words = append_assoc front (word ∷ []) words

-- one field more
pub word-more : (front now : Lines) (n m : ℕ) (f : Field) (fields fs : List Field) (o : Option (List ℕ)) → m ≡ n - 1 → fields ≡ f ∷ fs → o ≡ word_of (nat_lt 0 n) f → now ≡ front ++ cons_option o []
    → front ++ words_among n fields ≡ now ++ words_among m fs
word-more front now n m f fields fs o less is word put =
    ap (λ gs. front ++ words_among n gs) is
    ∙ (ap (λ w. front ++ cons_option w (words_among (n - 1) fs)) (sym word)
    ∙ (sym (one-put front o (words_among (n - 1) fs)) ∙ (ap (λ k. (front ++ cons_option o []) ++ words_among k fs) (sym less) ∙ ap (λ ws. ws ++ words_among m fs) (sym put))))

-- no field more
pub words-end : (front : Lines) (n : ℕ) (fields : List Field) → fields ≡ [] → front ++ words_among n fields ≡ front ++ []
words-end front n fields none = ap (λ gs. front ++ words_among n gs) none

-- the words of a line, by its fields
pub words-line : (line : List ℕ) (fields : List code.Field) → fields_within 9 line ≡ Some (map seen fields) → words_among (plain_fields (field_texts fields)) (map seen fields) ≡ block_words line
words-line line fields h = ap (λ (n : ℕ). words_among n (map seen fields)) (sym (count-seen fields)) ∙ ap (λ o. words_of o) (sym h)

-- ---- the lines up to the words

-- behind the lines of a field that is read, those of the other words are left
field-behind : (plain : Bool) (f : Field) (below middle : Lines) (t : List ℕ) (words : Lines) → filled_field plain f below ≡ Some (t, middle)
    → behind_words (cons_option (word_of plain f) words) below ≡ behind_words words middle
field-behind true f below middle t words h = let parts = some_pair_parts (text f) t below middle h in ap (λ ls. behind_words words ls) parts.1
field-behind false f below middle t words h = go (end_word f) h
  where
    left : (o : Option (Lines × Lines)) → option_and_then some_block o ≡ Some (t, middle) → option_and_then (λ (p : Lines × Lines). behind_words words p.1) o ≡ behind_words words middle
    left None k = absurd (cc)
    left (Some ([], rest)) k = absurd (cc)
    left (Some (line ∷ lines, rest)) k = let parts = some_pair_parts (block_text (line ∷ lines)) t rest middle k in ap (λ ls. behind_words words ls) parts.1

    go : (o : Option (List ℕ)) → filled_by o f below ≡ Some (t, middle) → behind_words (cons_option o words) below ≡ behind_words words middle
    go None k = let parts = some_pair_parts (text f) t below middle k in ap (λ ls. behind_words words ls) parts.1
    go (Some word) k = left (until_word word below) k

fields-behind : (n : ℕ) (fields : List Field) (below rest : Lines) (texts : Texts) → filled_fields n fields below ≡ Some (texts, rest) → behind_words (words_among n fields) below ≡ Some rest
fields-behind n [] below rest texts h = let parts = some_pair_parts [] texts below rest h in ap (λ ls. Some ls) parts.1
fields-behind n (f ∷ fs) below rest texts h =
    let m = more-filled n f fs below rest texts h in
    field-behind (nat_lt 0 n) f below m.middle m.first (words_among (n - 1) fs) m.here ∙ fields-behind (n - 1) fs m.middle rest m.others m.there

pub blocks-end : BlocksEndAtTheirWords
blocks-end line block rest x h =
    let below = block ++ rest in
    let c = chained said_from (texts_of_line line below) (x, rest) (has-saying line block rest x h) in
    let d = chained (λ (fs : List Field). texts_below fs below) (fields_within 9 line) c.0 c.1 in
    let m = mapped (λ (y : Saying). (y, c.0.1)) (saying_in c.0.0) (x, rest) c.2 in
    let left : c.0.1 ≡ rest = ap (λ (q : Saying × Lines). q.1) m.2 in
    ap (λ o. behind_words (words_of o) below) d.1
    ∙ (fields-behind (plain_fields (map text d.0)) d.0 below c.0.1 c.0.0 d.2 ∙ ap (λ ls. Some ls) left)
