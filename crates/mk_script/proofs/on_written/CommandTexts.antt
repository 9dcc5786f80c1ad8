-- The text of a command, with more fields and blocks.
use Rattle.std.proofs.Common.{◌≡◌, ℕ, Bool, true, false, List, [], ◌∷◌, ◌++◌, refl, sym, ap, ◌∙◌, subst, append_assoc, append-nil, map, codes}
use Rattle.std.specs.Prelude.{Option, Some, None, if◌then◌else◌}
use Rattle.std.specs.List.{AllByRecursion}
use Rattle.std.proofs.lemmas.List.{map-append}
use Rattle.mk_lines.specs.Lists.{concat}
use Rattle.mk_lines.specs.Spacing.{each_after_space, spaced_words}
use Rattle.mk_edit_language.specs.Edits.{Site, AtPlace, BeforeRun, AfterRun, OfRun, OfRuleRun}
use Rattle.mk_edit_language.specs.LineRuns.{block_lines}
use Rattle.mk_edit_language.proofs.on_line_runs.BlockTexts.{block-some}
use Rattle.mk_script.specs.Blocks.{block_text, is_word}
use Rattle.mk_script.specs.CommandTable.{Content, Text, Number, Block, texts, after_nth, nth_of_place, place_words, exchange_fields}
use Rattle.mk_script.specs.ScriptLaws.{CanBeWritten}
use Rattle.mk_script.specs.WrittenEdits.{each_ended, field_in_line, free_word, has_line, has_line_feed, lines_below, written}
use Rattle.mk_script.specs.WrittenLines.{HasBlockMore, HasFreeWord, IsCommandText, site_fields}
use Rattle.mk_script.proofs.on_commands.BlockLemmas.{block-text}
use Rattle.mk_script.proofs.on_commands.WrittenLemmas.{replace-fields, rule-fields}
use Rattle.mk_script.proofs.on_fields.BlockTexts.{block-ended}
use Rattle.mk_script.proofs.on_fields.EndedLines.{ended-append}
use Rattle.mk_script.proofs.on_written.WrittenContents.{all-append}

-- ---- more fields

spaced-append : (xs ys : List (List ℕ)) → each_after_space xs ++ each_after_space ys ≡ each_after_space (xs ++ ys)
spaced-append [] ys = refl
spaced-append (x ∷ xs) ys =
    append_assoc (codes " ") (x ++ each_after_space xs) (each_after_space ys)
    ∙ ap (λ (t : List ℕ). codes " " ++ t) (append_assoc x (each_after_space xs) (each_after_space ys) ∙ ap (λ (t : List ℕ). x ++ t) (spaced-append xs ys))

concat-append : (xs ys : List (List (List ℕ))) → concat xs ++ concat ys ≡ concat (xs ++ ys)
concat-append [] ys = refl
concat-append (x ∷ xs) ys = append_assoc x (concat xs) (concat ys) ∙ ap (λ z. x ++ z) (concat-append xs ys)

can-append : (cs ds : List Content) → CanBeWritten cs → CanBeWritten ds → CanBeWritten (cs ++ ds)
can-append [] ds h k = k
can-append (Text t ∷ cs) ds h k = can-append cs ds h k
can-append (Number n ∷ cs) ds h k = (h.0, can-append cs ds h.1 k)
can-append (Block lines ∷ cs) ds h k = (h.0, can-append cs ds h.1 k)

contents-more : (c : Content) (cs ds : List Content) (line below : List ℕ) → IsCommandText (c ∷ cs) line below → CanBeWritten ds → AllByRecursion HasFreeWord ds
    → IsCommandText (c ∷ (cs ++ ds)) (line ++ each_after_space (map field_in_line ds)) (below ++ each_ended (concat (map lines_below ds)))
contents-more c cs ds line below h can free = record {
  line_is =
      ap (λ t. t ++ each_after_space (map field_in_line ds)) h.line_is
      ∙ (append_assoc (field_in_line c) (each_after_space (map field_in_line cs)) (each_after_space (map field_in_line ds))
      ∙ ap (λ t. field_in_line c ++ t) (spaced-append (map field_in_line cs) (map field_in_line ds) ∙ ap (λ ws. each_after_space ws) (sym (map-append field_in_line cs ds))));
  below_is =
      ap (λ t. t ++ each_ended (concat (map lines_below ds))) h.below_is
      ∙ (sym (ended-append (concat (map lines_below (c ∷ cs))) (concat (map lines_below ds)))
      ∙ ap (λ ls. each_ended ls) (concat-append (map lines_below (c ∷ cs)) (map lines_below ds) ∙ ap (λ ls. concat ls) (sym (map-append lines_below (c ∷ cs) ds))));
  can = can-append (c ∷ cs) ds h.can can;
  free = all-append HasFreeWord (c ∷ cs) ds h.free free;
}

nth-more : (nth : Option ℕ) (x : Content) (cs ds : List Content) (line below : List ℕ) → IsCommandText (after_nth nth (x ∷ cs)) line below → CanBeWritten ds → AllByRecursion HasFreeWord ds
    → IsCommandText (after_nth nth (x ∷ (cs ++ ds))) (line ++ each_after_space (map field_in_line ds)) (below ++ each_ended (concat (map lines_below ds)))
nth-more None x cs ds line below h can free = contents-more x cs ds line below h can free
nth-more (Some n) x cs ds line below h can free = contents-more (Text (codes "nth")) (Number n ∷ x ∷ cs) ds line below h can free

-- ---- texts

texts-line : (ts : List (List ℕ)) → map field_in_line (texts ts) ≡ map written ts
texts-line [] = refl
texts-line (t ∷ ts) = ap (λ zs. written t ∷ zs) (texts-line ts)

texts-below : (ts : List (List ℕ)) → concat (map lines_below (texts ts)) ≡ []
texts-below [] = refl
texts-below (t ∷ ts) = texts-below ts

texts-can : (ts : List (List ℕ)) → CanBeWritten (texts ts)
texts-can [] = tt
texts-can (t ∷ ts) = texts-can ts

texts-free : (ts : List (List ℕ)) → AllByRecursion HasFreeWord (texts ts)
texts-free [] = tt
texts-free (t ∷ ts) = (tt, texts-free ts)

-- two lists of fields behind a word
pub said-more : (nth : Option ℕ) (word : List ℕ) (first others : List (List ℕ)) (begun line done below : List ℕ) → IsCommandText (after_nth nth (texts (word ∷ []))) begun []
    → line ≡ begun ++ each_after_space (map written first) → done ≡ line ++ each_after_space (map written others) → below ≡ [] → IsCommandText (after_nth nth (texts (word ∷ (first ++ others)))) done below
said-more nth word first others begun line done below h e f none =
    let ts = first ++ others in
    let more = nth-more nth (Text word) [] (texts ts) begun [] h (texts-can ts) (texts-free ts) in
    let whole : begun ++ each_after_space (map field_in_line (texts ts)) ≡ done =
    ap (λ (zs : List (List ℕ)). begun ++ each_after_space zs) (texts-line ts ∙ map-append written first others)
    ∙ (ap (λ (t : List ℕ). begun ++ t) (sym (spaced-append (map written first) (map written others)))
    ∙ (sym (append_assoc begun (each_after_space (map written first)) (each_after_space (map written others))) ∙ (ap (λ (t : List ℕ). t ++ each_after_space (map written others)) (sym e) ∙ sym f))) in
    let rest : each_ended (concat (map lines_below (texts ts))) ≡ below = ap (λ (ls : List (List ℕ)). each_ended ls) (texts-below ts) ∙ sym none in
    subst (λ (b : List ℕ). IsCommandText (after_nth nth (texts (word ∷ (first ++ others)))) done b) rest
    (subst (λ (t : List ℕ). IsCommandText (after_nth nth (texts (word ∷ (first ++ others)))) t (each_ended (concat (map lines_below (texts ts))))) whole more)

-- ---- blocks

-- one that stands below
below-field : (b : List ℕ) → has_line_feed b ≡ true → field_in_line (Block (block_lines b)) ≡ codes "<<" ++ free_word (block_lines b)
below-field b h = ap (λ c. if c then codes "<<" ++ free_word (block_lines b) else written (block_text (block_lines b))) (ap has_line_feed (block-text b) ∙ h)

below-lines : (b : List ℕ) → has_line_feed b ≡ true → each_ended (lines_below (Block (block_lines b))) ≡ (b ++ 10 ∷ []) ++ (free_word (block_lines b) ++ 10 ∷ [])
below-lines b h =
    let w = free_word (block_lines b) in
    ap (λ c. each_ended (if c then block_lines b ++ w ∷ [] else [])) (ap has_line_feed (block-text b) ∙ h)
    ∙ (ended-append (block_lines b) (w ∷ []) ∙ ap (λ t. t ++ (w ++ 10 ∷ [])) (block-ended b))

-- one that stands in the line
line-field : (b : List ℕ) → has_line_feed b ≡ false → field_in_line (Block (block_lines b)) ≡ written b
line-field b h =
    ap (λ c. if c then codes "<<" ++ free_word (block_lines b) else written (block_text (block_lines b))) (ap has_line_feed (block-text b) ∙ h) ∙ ap (λ t. written t) (block-text b)

line-lines : (b : List ℕ) → has_line_feed b ≡ false → each_ended (lines_below (Block (block_lines b))) ≡ []
line-lines b h = ap (λ c. each_ended (if c then block_lines b ++ free_word (block_lines b) ∷ [] else [])) (ap has_line_feed (block-text b) ∙ h)

line-free : (b : List ℕ) → has_line_feed b ≡ false → HasFreeWord (Block (block_lines b))
line-free b h = λ some. let none : has_line_feed (block_text (block_lines b)) ≡ false = ap has_line_feed (block-text b) ∙ h in absurd (cc)

-- the text of a command with a block in its line, and with one below it
pub field-put : (b line below now under : List ℕ) → has_line_feed b ≡ false → now ≡ line ++ (codes " " ++ written b) → under ≡ below → HasBlockMore (block_lines b) line below now under
field-put b line below now under h put same = record {
  line_is = put ∙ ap (λ (t : List ℕ). line ++ (codes " " ++ t)) (sym (line-field b h));
  below_is = same ∙ (sym (append-nil below) ∙ ap (λ (t : List ℕ). below ++ t) (sym (line-lines b h)));
  free = line-free b h;
}

pub lines-put : (b w line below l1 l2 b1 b2 : List ℕ) → has_line_feed b ≡ true → w ≡ free_word (block_lines b) → has_line (block_lines b) (free_word (block_lines b)) ≡ false
    → is_word (free_word (block_lines b)) ≡ true → l1 ≡ line ++ codes " <<" → l2 ≡ l1 ++ w → b1 ≡ below ++ (b ++ 10 ∷ []) → b2 ≡ b1 ++ (w ++ 10 ∷ []) → HasBlockMore (block_lines b) line below l2 b2
lines-put b w line below l1 l2 b1 b2 h is free word mark named lines last =
    let v = free_word (block_lines b) in
    record {
      line_is =
          named
          ∙ (ap (λ (t : List ℕ). t ++ w) mark
          ∙ (append_assoc line (codes " <<") w ∙ (ap (λ (t : List ℕ). line ++ (codes " <<" ++ t)) is ∙ ap (λ (t : List ℕ). line ++ (codes " " ++ t)) (sym (below-field b h)))));
      below_is =
          last
          ∙ (ap (λ (t : List ℕ). t ++ (w ++ 10 ∷ [])) lines
          ∙ (append_assoc below (b ++ 10 ∷ []) (w ++ 10 ∷ [])
          ∙ (ap (λ (t : List ℕ). below ++ ((b ++ 10 ∷ []) ++ (t ++ 10 ∷ []))) is ∙ ap (λ (t : List ℕ). below ++ t) (sym (below-lines b h)))));
      free = λ some. (free, word);
    }

-- a command with one block more
block-said : (nth : Option ℕ) (x : Content) (cs : List Content) (lines : List (List ℕ)) (line below now under : List ℕ) → IsCommandText (after_nth nth (x ∷ cs)) line below
    → (t : List ℕ) × (block_lines t ≡ lines) → HasBlockMore lines line below now under → IsCommandText (after_nth nth (x ∷ (cs ++ Block lines ∷ []))) now under
block-said nth x cs lines line below now under h can put =
    let d : Content = Block lines in
    let more = nth-more nth x cs (d ∷ []) line below h (can, tt) (put.free, tt) in
    let whole : line ++ each_after_space (field_in_line d ∷ []) ≡ now = ap (λ (t : List ℕ). line ++ (codes " " ++ t)) (append-nil (field_in_line d)) ∙ sym put.line_is in
    let rest : below ++ each_ended (lines_below d ++ []) ≡ under = ap (λ (ls : List (List ℕ)). below ++ each_ended ls) (append-nil (lines_below d)) ∙ sym put.below_is in
    subst (λ (u : List ℕ). IsCommandText (after_nth nth (x ∷ (cs ++ Block lines ∷ []))) now u) rest
    (subst (λ (t : List ℕ). IsCommandText (after_nth nth (x ∷ (cs ++ Block lines ∷ []))) t (below ++ each_ended (lines_below d ++ []))) whole more)

pub with-said : (nth : Option ℕ) (word : List ℕ) (fs : List (List ℕ)) (b line below now under : List ℕ) → IsCommandText (after_nth nth (texts (word ∷ fs))) line below
    → HasBlockMore (block_lines b) line below now under → IsCommandText (after_nth nth (texts (word ∷ fs) ++ Block (block_lines b) ∷ [])) now under
with-said nth word fs b line below now under h put = block-said nth (Text word) (texts fs) (block_lines b) line below now under h (b, refl) put

-- an exchange with its new lines
pub exchange-said : (site : Site) (b line below now under : List ℕ) → IsCommandText (site_fields site) line below → HasBlockMore (block_lines b) line below now under
    → IsCommandText (exchange_fields site (block_lines b)) now under
exchange-said (AtPlace place) b line below now under h put =
    block-said (nth_of_place place) (Text (codes "insert")) (texts (place_words place)) (block_lines b) line below now under h (b, refl) put
exchange-said (BeforeRun nth old) b line below now under h put =
    block-said nth (Text (codes "insert")) (Text (codes "before-line") ∷ Block old ∷ []) (block_lines b) line below now under h (b, refl) put
exchange-said (AfterRun nth old) b line below now under h put =
    block-said nth (Text (codes "insert")) (Text (codes "after-line") ∷ Block old ∷ []) (block_lines b) line below now under h (b, refl) put
exchange-said (OfRun nth old) b line below now under h put =
    subst (λ cs. IsCommandText cs now under) (sym (replace-fields nth old (block_lines b) (block-some b)))
    (block-said nth (Text (codes "line-replace")) (Block old ∷ []) (block_lines b) line below now under h (b, refl) put)
exchange-said (OfRuleRun nth target) b line below now under h put =
    subst (λ cs. IsCommandText cs now under) (sym (rule-fields nth target (block_lines b) (block-some b)))
    (block-said nth (Text (codes "rule-replace")) (Text target ∷ []) (block_lines b) line below now under h (b, refl) put)

-- a place without a field behind it
pub place-said : (nth : Option ℕ) (words : List (List ℕ)) (line below : List ℕ) → IsCommandText (after_nth nth (texts (codes "insert" ∷ (words ++ [])))) line below
    → IsCommandText (after_nth nth (texts (codes "insert" ∷ words))) line below
place-said nth words line below h = subst (λ ws. IsCommandText (after_nth nth (texts (codes "insert" ∷ ws))) line below) (append-nil words) h
