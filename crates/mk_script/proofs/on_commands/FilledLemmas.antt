-- Fields, and their texts where the text of a block stands in the place of a field over several lines.
use Rattle.std.proofs.Common.{◌≡◌, ℕ, suc, ◌+◌, ◌-◌, ◌<◌, ◌≤◌, add-one, drop, drop-cons, get_or, Bool, true, false, cond, List, [], ◌∷◌, ◌++◌, length, map, take, refl, sym, ap, ◌∙◌, subst, arith, append_assoc, append-nil, length-append}
use Rattle.std.specs.Prelude.{not, nat_lt, Option, Some, None, option_map, option_and_then}
use Rattle.std.specs.Str.{bytes_eq}
use Rattle.std.proofs.lemmas.Option.{some_pair_parts}
use Rattle.std.proofs.lemmas.Slice.Eq.{bytes_eq-Decides}
use Rattle.mk_lines.specs.Lists.{Each}
use Rattle.mk_script.specs.Fields.{Field, text}
use Rattle.mk_script.specs.Blocks.{end_word, AreBefore, block_text, HasTextBy, HasBlockText}
use Rattle.mk_script.specs.Numbers.{number}
use Rattle.mk_script.specs.CommandTable.{Content, Text, Number, Block, HaveContents}
use Rattle.mk_script.specs.CommandReading.{Texts}
use Rattle.mk_script.specs.BlockReading.{until_word, some_block, filled_by, filled_field, put_text, filled_fields, plain_fields, texts_below, texts_of_line}
use Rattle.mk_script.specs.FieldReading.{fields_within}
use Rattle.mk_script.specs.SeenFields.{field_text, field_texts, seen}
use Rattle.mk_script.specs.declared.field.Field as code
use Rattle.mk_script.specs.Lines.{script_lines}
use Rattle.mk_script.specs.ReaderAnswers.{Passes}
use Rattle.mk_script.proofs.on_commands.TextContents.{HaveTexts}
use Rattle.mk_script.proofs.on_commands.TableLemmas.{chained}

-- ---- the lines up to a word

word-is : (word : List ℕ) → bytes_eq word word ≡ true
word-is word = (bytes_eq-Decides word word).1 refl

pub other-line : (line word : List ℕ) → (line ≡ word → ⊥) → bytes_eq line word ≡ false
other-line line word h = go (bytes_eq line word) refl
  where
    go : (b : Bool) → bytes_eq line word ≡ b → bytes_eq line word ≡ false
    go true e = absurd (h ((bytes_eq-Decides line word).0 e))
    go false e = e

-- the first line is the word, or is not
until-step : (word line : List ℕ) (lines : List (List ℕ)) (b : Bool) → bytes_eq line word ≡ b
    → until_word word (line ∷ lines) ≡ cond b (Some ([], lines)) (option_map (λ (p : List (List ℕ) × List (List ℕ)). (line ∷ p.0, p.1)) (until_word word lines))
until-step word line lines b h = ap (λ (c : Bool). cond c (Some ([], lines)) (option_map (λ (p : List (List ℕ) × List (List ℕ)). (line ∷ p.0, p.1)) (until_word word lines))) h

until-each : (word : List ℕ) (lines rest : List (List ℕ)) → Each (λ l. not (bytes_eq l word)) lines → until_word word (lines ++ word ∷ rest) ≡ Some (lines, rest)
until-each word [] rest h = until-step word word rest true (word-is word)
until-each word (line ∷ lines) rest h = go (bytes_eq line word) refl h.0 (until-each word lines rest h.1)
  where
    go : (b : Bool) → bytes_eq line word ≡ b → not b ≡ true → until_word word (lines ++ word ∷ rest) ≡ Some (lines, rest) → until_word word (line ∷ (lines ++ word ∷ rest)) ≡ Some (line ∷ lines, rest)
    go true e k others = absurd (cc)
    go false e k others =
        until-step word line (lines ++ word ∷ rest) false e ∙ ap (λ o. option_map (λ (p : List (List ℕ) × List (List ℕ)). (line ∷ p.0, p.1)) o) others

-- What lies before the word, and behind it.
record IsUntil (word : List ℕ) (below lines rest : List (List ℕ)) : Type 0 where
  pub whole : below ≡ lines ++ word ∷ rest
  pub none : Each (λ l. not (bytes_eq l word)) lines

until-is : (word : List ℕ) (below lines rest : List (List ℕ)) → until_word word below ≡ Some (lines, rest) → IsUntil word below lines rest
until-is word [] lines rest h = absurd (cc)
until-is word (line ∷ below) lines rest h = go (bytes_eq line word) refl (λ ls k. until-is word below ls rest k)
  where
    later : bytes_eq line word ≡ false → (o : Option (List (List ℕ) × List (List ℕ))) → until_word word below ≡ o
        → option_map {U = List (List ℕ) × List (List ℕ)} (λ (p : List (List ℕ) × List (List ℕ)). (line ∷ p.0, p.1)) o ≡ Some (lines, rest)
        → ((ls : List (List ℕ)) → until_word word below ≡ Some (ls, rest) → IsUntil word below ls rest) → IsUntil word (line ∷ below) lines rest
    later e None f k on = absurd (cc)
    later e (Some p) f k on =
        let parts = some_pair_parts (line ∷ p.0) lines p.1 rest k in
        let others = on p.0 (f ∙ ap (λ r. Some (p.0, r)) parts.1) in
        record {
          whole = ap (λ ls. line ∷ ls) others.whole ∙ ap (λ ls. ls ++ word ∷ rest) parts.0;
          none = subst (λ ls. Each (λ l. not (bytes_eq l word)) ls) parts.0 (ap not e, others.none);
        }

    go : (b : Bool) → bytes_eq line word ≡ b → ((ls : List (List ℕ)) → until_word word below ≡ Some (ls, rest) → IsUntil word below ls rest) → IsUntil word (line ∷ below) lines rest
    go true e on =
        let here = until-step word line below true e in
        let parts = some_pair_parts [] lines below rest (sym here ∙ h) in
        let same : line ≡ word = (bytes_eq-Decides line word).0 e in
        record {
          whole = ap (λ l. l ∷ below) same ∙ (ap (λ ls. word ∷ ls) parts.1 ∙ ap (λ ls. ls ++ word ∷ rest) parts.0);
          none = subst (λ ls. Each (λ l. not (bytes_eq l word)) ls) parts.0 tt;
        }
    go false e on = later e (until_word word below) refl (sym (until-step word line below false e) ∙ h) on

-- So many lines are passed, none of which is the word, and others are left.
pub record IsPassed (word : List ℕ) (below : List (List ℕ)) (count : ℕ) (left : List (List ℕ)) : Type 0 where
  pub lines : List (List ℕ)
  pub whole : below ≡ lines ++ left
  pub none : Each (λ l. not (bytes_eq l word)) lines
  pub count_is : count ≡ length lines

pub none-passed : (word : List ℕ) (below : List (List ℕ)) → IsPassed word below 0 below
none-passed word below = record { lines = []; whole = refl; none = tt; count_is = refl }

each-more : (p : List ℕ → Bool) (xs : List (List ℕ)) (x : List ℕ) → Each p xs → p x ≡ true → Each p (xs ++ x ∷ [])
each-more p [] x h k = (k, tt)
each-more p (y ∷ xs) x h k = (h.0, each-more p xs x h.1 k)

pub line-passed : (word : List ℕ) (below : List (List ℕ)) (count : ℕ) (line : List ℕ) (left lines : List (List ℕ)) → lines ≡ line ∷ left → IsPassed word below count lines → bytes_eq line word ≡ false
    → IsPassed word below (count + 1) left
line-passed word below count line left lines is h other = record {
  lines = h.lines ++ line ∷ [];
  whole = h.whole ∙ (ap (λ ls. h.lines ++ ls) is ∙ sym (append_assoc h.lines (line ∷ []) left));
  none = each-more (λ l. not (bytes_eq l word)) h.lines line h.none (ap not other);
  count_is = let long = length-append h.lines (line ∷ []) in let same = h.count_is in omega (arith, long, same);
}

-- the line is the word
pub word-found : (word : List ℕ) (below : List (List ℕ)) (count : ℕ) (line : List ℕ) (left lines : List (List ℕ)) → lines ≡ line ∷ left → IsPassed word below count lines → line ≡ word
    → Passes (until_word word below) (Some count) left
word-found word below count line left lines is h same =
    (h.lines, ap (λ b. until_word word b) (h.whole ∙ ap (λ ls. h.lines ++ ls) (is ∙ ap (λ l. l ∷ left) same)) ∙ until-each word h.lines left h.none, h.count_is)

-- no line is
until-none : (word : List ℕ) (lines : List (List ℕ)) → Each (λ l. not (bytes_eq l word)) lines → until_word word lines ≡ None
until-none word [] h = refl
until-none word (line ∷ lines) h = go (bytes_eq line word) refl h.0 (until-none word lines h.1)
  where
    go : (b : Bool) → bytes_eq line word ≡ b → not b ≡ true → until_word word lines ≡ None → until_word word (line ∷ lines) ≡ None
    go true e k others = absurd (cc)
    go false e k others = until-step word line lines false e ∙ ap (λ o. option_map (λ (p : List (List ℕ) × List (List ℕ)). (line ∷ p.0, p.1)) o) others

pub word-never : (word : List ℕ) (below : List (List ℕ)) (count : ℕ) (lines left : List (List ℕ)) → lines ≡ [] → IsPassed word below count lines → Passes (until_word word below) None left
word-never word below count lines left none h = ap (λ b. until_word word b) (h.whole ∙ (ap (λ ls. h.lines ++ ls) none ∙ append-nil h.lines)) ∙ until-none word h.lines h.none

-- ---- a field

-- a field that may be a block, with its lines
block-filled : (f : Field) (below rest : List (List ℕ)) (t : List ℕ) → HasBlockText f below t → filled_field false f (below ++ rest) ≡ Some (t, rest)
block-filled f below rest t h = go (end_word f) refl h
  where
    marked : (word : List ℕ) → end_word f ≡ Some word → (lines : List (List ℕ)) → AreBefore word lines → below ≡ lines ++ word ∷ [] → block_text lines ≡ t
        → filled_field false f (below ++ rest) ≡ Some (t, rest)
    marked word e [] before is same = absurd before
    marked word e (line ∷ lines) before is same =
        ap (λ o. filled_by o f (below ++ rest)) e
        ∙ (ap (λ b. option_and_then some_block (until_word word b)) (ap (λ b. b ++ rest) is ∙ append_assoc (line ∷ lines) (word ∷ []) rest)
        ∙ (ap (λ o. option_and_then some_block o) (until-each word (line ∷ lines) rest before) ∙ ap (λ x. Some (x, rest)) same))

    go : (o : Option (List ℕ)) → end_word f ≡ o
        → HasTextBy o f below t → filled_field false f (below ++ rest) ≡ Some (t, rest)
    go None e k = ap (λ o. filled_by o f (below ++ rest)) e ∙ (ap (λ b. Some (text f, b ++ rest)) k.0 ∙ ap (λ x. Some (x, rest)) k.1)
    go (Some word) e k = marked word e k.0 k.1 k.2 k.3

-- and back
filled-block : (f : Field) (below rest : List (List ℕ)) (t : List ℕ) → filled_field false f below ≡ Some (t, rest) → (block : List (List ℕ)) × (below ≡ block ++ rest) × HasBlockText f block t
filled-block f below rest t h = go (end_word f) refl
  where
    by_block : (word : List ℕ) → end_word f ≡ Some word → (p : List (List ℕ) × List (List ℕ)) → until_word word below ≡ Some p → some_block p ≡ Some (t, rest)
        → (block : List (List ℕ)) × (below ≡ block ++ rest) × HasBlockText f block t
    by_block word e ([], left) u k = absurd (cc)
    by_block word e (line ∷ lines, left) u k =
        let parts = some_pair_parts (block_text (line ∷ lines)) t left rest k in
        let is = until-is word below (line ∷ lines) left u in (
          (line ∷ lines) ++ word ∷ [],
          is.whole ∙ (ap (λ r. (line ∷ lines) ++ word ∷ r) parts.1 ∙ sym (append_assoc (line ∷ lines) (word ∷ []) rest)),
          subst (λ o. HasTextBy o f ((line ∷ lines) ++ word ∷ []) t) (sym e) (line ∷ lines, is.none, refl, parts.0),
        )

    go : (o : Option (List ℕ)) → end_word f ≡ o → (block : List (List ℕ)) × (below ≡ block ++ rest) × HasBlockText f block t
    go None e =
        let here : filled_field false f below ≡ Some (text f, below) = ap (λ o. filled_by o f below) e in
        let parts = some_pair_parts (text f) t below rest (sym here ∙ h) in
        ([], parts.1, subst (λ o. HasTextBy o f [] t) (sym e) (refl, parts.0))
    go (Some word) e =
        let there : filled_field false f below ≡ option_and_then some_block (until_word word below) = ap (λ o. filled_by o f below) e in
        let c = chained some_block (until_word word below) (t, rest) (sym there ∙ h) in
        by_block word e c.0 c.1 c.2

-- ---- a field as it is read

pub filled-alone : (f : Field) (below : List (List ℕ)) → end_word f ≡ None → filled_field false f below ≡ Some (text f, below)
filled-alone f below none = ap (λ o. filled_by o f below) none

-- a field with a word, by what was passed
pub passed-block : (f : Field) (word : List ℕ) (script : List ℕ) (below left : List (List ℕ)) (count : ℕ) → end_word f ≡ Some word → script_lines script ≡ below
    → Passes (until_word word below) (Some count) left → (count ≡ 0 → ⊥) → filled_field false f below ≡ Some (block_text (take count (script_lines script)), left)
passed-block f word script below left count is all (lines, until, counted) some =
    ap (λ o. filled_by o f below) is ∙ (ap (λ o. option_and_then some_block o) until ∙ by_lines lines (until-is word below lines left until) counted)
  where
    taken : (xs ys : List (List ℕ)) → take (length xs) (xs ++ ys) ≡ xs
    taken [] ys = refl
    taken (x ∷ xs) ys = ap (λ zs. x ∷ zs) (taken xs ys)

    by_lines : (lines : List (List ℕ)) → IsUntil word below lines left → count ≡ length lines → some_block (lines, left) ≡ Some (block_text (take count (script_lines script)), left)
    by_lines [] until e = absurd (some e)
    by_lines (line ∷ lines) until e =
        let front : take count (script_lines script) ≡ line ∷ lines = ap (λ n. take n (script_lines script)) e ∙ (ap (λ ls. take (length (line ∷ lines)) ls) (all ∙ until.whole) ∙ taken (line ∷ lines) (word ∷ left)) in
        ap (λ ls. Some (block_text ls, left)) (sym front)

pub passed-enough : (word : List ℕ) (script : List ℕ) (below left : List (List ℕ)) (count : ℕ) → script_lines script ≡ below → Passes (until_word word below) (Some count) left → count ≤ length (script_lines script)
passed-enough word script below left count all (lines, until, counted) =
    let is = until-is word below lines left until in
    let long = ap length (all ∙ is.whole) ∙ length-append lines (word ∷ left) in
    omega (arith, long, counted)

pub passed-none : (f : Field) (word : List ℕ) (below left : List (List ℕ)) → end_word f ≡ Some word → Passes (until_word word below) None left → filled_field false f below ≡ None
passed-none f word below left is none = ap (λ o. filled_by o f below) is ∙ ap (λ o. option_and_then some_block o) none

pub passed-empty : (f : Field) (word : List ℕ) (below left : List (List ℕ)) (count : ℕ) → end_word f ≡ Some word → Passes (until_word word below) (Some count) left → count ≡ 0
    → filled_field false f below ≡ None
passed-empty f word below left count is (lines, until, counted) none = ap (λ o. filled_by o f below) is ∙ (ap (λ o. option_and_then some_block o) until ∙ by_lines lines (sym none ∙ counted))
  where
    by_lines : (lines : List (List ℕ)) → 0 ≡ length lines → some_block (lines, left) ≡ None
    by_lines [] e = refl
    by_lines (line ∷ lines) e = absurd (omega (arith, e))

-- ---- fields that are filled one after the other

-- texts before those of other fields
abbrev pub put_texts : Texts → Option (Texts × List (List ℕ)) → Option (Texts × List (List ℕ))
put_texts front None = None
put_texts front (Some q) = Some (front ++ q.0, q.1)

put-one : (front : Texts) (t : List ℕ) (o : Option (Texts × List (List ℕ))) → put_texts front (put_text t o) ≡ put_texts (front ++ t ∷ []) o
put-one front t None = refl
put-one front t (Some q) = ap (λ ts. Some (ts, q.1)) (sym (append_assoc front (t ∷ []) q.0))

-- one field more
pub fill-more : (front now : Texts) (n m : ℕ) (f : Field) (fields fs : List Field) (below middle : List (List ℕ)) (t : List ℕ) → m ≡ n - 1 → fields ≡ f ∷ fs → filled_field (nat_lt 0 n) f below ≡ Some (t, middle)
    → now ≡ front ++ t ∷ [] → put_texts front (filled_fields n fields below) ≡ put_texts now (filled_fields m fs middle)
fill-more front now n m f fields fs below middle t less is here put =
    ap (λ gs. put_texts front (filled_fields n gs below)) is
    ∙ (ap (λ o. put_texts front (option_and_then (λ (p : List ℕ × List (List ℕ)). put_text p.0 (filled_fields (n - 1) fs p.1)) o)) here
    ∙ (put-one front t (filled_fields (n - 1) fs middle) ∙ (ap (λ k. put_texts (front ++ t ∷ []) (filled_fields k fs middle)) (sym less) ∙ ap (λ ts. put_texts ts (filled_fields m fs middle)) (sym put))))

-- no field more
pub fill-end : (front : Texts) (n : ℕ) (fields : List Field) (below : List (List ℕ)) → fields ≡ [] → put_texts front (filled_fields n fields below) ≡ Some (front, below)
fill-end front n fields below none = ap (λ gs. put_texts front (filled_fields n gs below)) none ∙ ap (λ ts. Some (ts, below)) (append-nil front)

-- the fields of a line
pub fill-start : (line : List ℕ) (fields : List Field) (below : List (List ℕ)) → fields_within 9 line ≡ Some fields
    → texts_of_line line below ≡ put_texts [] (filled_fields (plain_fields (map text fields)) fields below)
fill-start line fields below h = ap (λ o. option_and_then (λ (fs : List Field). texts_below fs below) o) h ∙ none (filled_fields (plain_fields (map text fields)) fields below)
  where
    none : (o : Option (Texts × List (List ℕ))) → o ≡ put_texts [] o
    none None = refl
    none (Some q) = refl

-- the texts of fields that are gathered
texts-seen : (fields : List code.Field) → map text (map seen fields) ≡ field_texts fields
texts-seen [] = refl
texts-seen (f ∷ fs) = ap (λ ts. field_text f ∷ ts) (texts-seen fs)

pub count-seen : (fields : List code.Field) → plain_fields (map text (map seen fields)) ≡ plain_fields (field_texts fields)
count-seen fields = ap (λ ts. plain_fields ts) (texts-seen fields)

-- those that are left, from the next one on
pub next-seen : (fields : List code.Field) (i : ℕ) (f : code.Field) → i < length fields → f ≡ get_or fields i f → map seen (drop i fields) ≡ seen f ∷ map seen (drop (i + 1) fields)
next-seen fields i f below is =
    let split : drop i fields ≡ f ∷ drop (i + 1) fields = rw (add-one, drop-cons fields i f below) (ap (λ (z : code.Field). z ∷ drop (suc i) fields) (sym is)) in
    ap (map seen) split

-- ---- fields

-- the contents before number `n` are no blocks, and those from it on are
abbrev pub Fit : (n : ℕ) → List Content → Type 0
Fit n [] = Unit {0}
Fit n (Text t ∷ contents) = (nat_lt 0 n ≡ true) × Fit (n - 1) contents
Fit n (Number k ∷ contents) = (nat_lt 0 n ≡ true) × Fit (n - 1) contents
Fit n (Block lines ∷ contents) = (nat_lt 0 n ≡ false) × Fit (n - 1) contents

pub plain-here : (n : ℕ) (f : Field) (below : List (List ℕ)) → nat_lt 0 n ≡ true → filled_field (nat_lt 0 n) f below ≡ Some (text f, below)
plain-here n f below h = ap (λ b. filled_field b f below) h

block-here : (n : ℕ) (f : Field) (below : List (List ℕ)) → nat_lt 0 n ≡ false → filled_field (nat_lt 0 n) f below ≡ filled_field false f below
block-here n f below h = ap (λ b. filled_field b f below) h

-- one more text, before those of other fields
pub one-filled : (n : ℕ) (f : Field) (fs : List Field) (below middle rest : List (List ℕ)) (t : List ℕ) (texts : Texts) → filled_field (nat_lt 0 n) f below ≡ Some (t, middle)
    → filled_fields (n - 1) fs middle ≡ Some (texts, rest) → filled_fields n (f ∷ fs) below ≡ Some (t ∷ texts, rest)
one-filled n f fs below middle rest t texts first others =
    ap (λ o. option_and_then (λ (p : List ℕ × List (List ℕ)). put_text p.0 (filled_fields (n - 1) fs p.1)) o) first ∙ ap (λ o. put_text t o) others

pub has-filled : (n : ℕ) (fields : List Field) (below rest : List (List ℕ)) (contents : List Content) → HaveContents fields below contents → Fit n contents
    → (texts : Texts) × (filled_fields n fields (below ++ rest) ≡ Some (texts, rest)) × HaveTexts texts contents
has-filled n [] below rest [] h fit = ([], ap (λ b. Some ([], b ++ rest)) h, tt)
has-filled n [] below rest (c ∷ contents) h fit = absurd h
has-filled n (f ∷ fs) below rest [] h fit = absurd h
has-filled n (f ∷ fs) below rest (Text t ∷ contents) (first, others, whole, (none, is), have) fit =
    let o = has-filled (n - 1) fs others rest contents have fit.1 in
    let left : below ++ rest ≡ others ++ rest = ap (λ b. b ++ rest) (whole ∙ ap (λ b. b ++ others) none) in
    (text f ∷ o.0, one-filled n f fs (below ++ rest) (others ++ rest) rest (text f) o.0 (plain-here n f (below ++ rest) fit.0 ∙ ap (λ b. Some (text f, b)) left) o.1, (is, o.2))
has-filled n (f ∷ fs) below rest (Number k ∷ contents) (first, others, whole, (none, is), have) fit =
    let o = has-filled (n - 1) fs others rest contents have fit.1 in
    let left : below ++ rest ≡ others ++ rest = ap (λ b. b ++ rest) (whole ∙ ap (λ b. b ++ others) none) in
    (text f ∷ o.0, one-filled n f fs (below ++ rest) (others ++ rest) rest (text f) o.0 (plain-here n f (below ++ rest) fit.0 ∙ ap (λ b. Some (text f, b)) left) o.1, (is, o.2))
has-filled n (f ∷ fs) below rest (Block lines ∷ contents) (first, others, whole, (t, is, lines_are), have) fit =
    let o = has-filled (n - 1) fs others rest contents have fit.1 in
    let left : below ++ rest ≡ first ++ (others ++ rest) = ap (λ b. b ++ rest) whole ∙ append_assoc first others rest in
    let here : filled_field (nat_lt 0 n) f (below ++ rest) ≡ Some (t, others ++ rest) =
    block-here n f (below ++ rest) fit.0 ∙ (ap (λ b. filled_field false f b) left ∙ block-filled f first (others ++ rest) t is) in
    (t ∷ o.0, one-filled n f fs (below ++ rest) (others ++ rest) rest t o.0 here o.1, (lines_are, o.2))

-- the first text, and the others
pub record IsMoreFilled (n : ℕ) (f : Field) (fs : List Field) (below rest : List (List ℕ)) (texts : Texts) : Type 0 where
  pub first : List ℕ
  pub middle : List (List ℕ)
  pub others : Texts
  pub here : filled_field (nat_lt 0 n) f below ≡ Some (first, middle)
  pub there : filled_fields (n - 1) fs middle ≡ Some (others, rest)
  pub texts_are : texts ≡ first ∷ others

pub more-filled : (n : ℕ) (f : Field) (fs : List Field) (below rest : List (List ℕ)) (texts : Texts) → filled_fields n (f ∷ fs) below ≡ Some (texts, rest) → IsMoreFilled n f fs below rest texts
more-filled n f fs below rest texts h =
    let c = chained (λ (p : List ℕ × List (List ℕ)). put_text p.0 (filled_fields (n - 1) fs p.1)) (filled_field (nat_lt 0 n) f below) (texts, rest) h in
    put-parts c.0 c.1 (filled_fields (n - 1) fs c.0.1) refl c.2
  where
    put-parts : (p : List ℕ × List (List ℕ)) → filled_field (nat_lt 0 n) f below ≡ Some p → (o : Option (Texts × List (List ℕ))) → filled_fields (n - 1) fs p.1 ≡ o → put_text p.0 o ≡ Some (texts, rest)
        → IsMoreFilled n f fs below rest texts
    put-parts p e None k m = absurd (cc)
    put-parts p e (Some q) k m =
        let parts = some_pair_parts (p.0 ∷ q.0) texts q.1 rest m in
        record { first = p.0; middle = p.1; others = q.0; here = e; there = k ∙ ap (λ r. Some (q.0, r)) parts.1; texts_are = sym parts.0 }

-- Some lines are those of blocks, and others are left.
pub record AreTaken (fields : List Field) (below rest : List (List ℕ)) (contents : List Content) : Type 0 where
  pub block : List (List ℕ)
  pub whole : below ≡ block ++ rest
  pub have : HaveContents fields block contents

pub taken-plain : (n : ℕ) (f : Field) (fs : List Field) (below rest : List (List ℕ)) (texts : Texts) (m : IsMoreFilled n f fs below rest texts) → nat_lt 0 n ≡ true → (text f ≡ m.first) × (below ≡ m.middle)
taken-plain n f fs below rest texts m h = some_pair_parts (text f) m.first below m.middle (sym (plain-here n f below h) ∙ m.here)

pub filled-has : (n : ℕ) (fields : List Field) (below rest : List (List ℕ)) (texts : Texts) (contents : List Content) → filled_fields n fields below ≡ Some (texts, rest) → HaveTexts texts contents → Fit n contents
    → AreTaken fields below rest contents
filled-has n [] below rest texts contents h have fit =
    let parts = some_pair_parts [] texts below rest h in
    none contents (subst (λ ts. HaveTexts ts contents) (sym parts.0) have) parts.1
  where
    none : (contents : List Content) → HaveTexts [] contents → below ≡ rest → AreTaken [] below rest contents
    none [] k e = record { block = []; whole = e; have = refl }
    none (c ∷ contents) k e = absurd k
filled-has n (f ∷ fs) below rest texts contents h have fit =
    let m = more-filled n f fs below rest texts h in
    go m contents (subst (λ ts. HaveTexts ts contents) m.texts_are have) fit (λ cs k j. filled-has (n - 1) fs m.middle rest m.others cs m.there k j)
  where
    go : (m : IsMoreFilled n f fs below rest texts) (contents : List Content) → HaveTexts (m.first ∷ m.others) contents → Fit n contents
        → ((cs : List Content) → HaveTexts m.others cs → Fit (n - 1) cs → AreTaken fs m.middle rest cs) → AreTaken (f ∷ fs) below rest contents
    go m [] k j on = absurd k
    go m (Text t ∷ cs) k j on =
        let p = taken-plain n f fs below rest texts m j.0 in
        let o = on cs k.1 j.1 in
        record { block = o.block; whole = p.1 ∙ o.whole; have = ([], o.block, refl, (refl, p.0 ∙ k.0), o.have) }
    go m (Number d ∷ cs) k j on =
        let p = taken-plain n f fs below rest texts m j.0 in
        let o = on cs k.1 j.1 in
        record { block = o.block; whole = p.1 ∙ o.whole; have = ([], o.block, refl, (refl, ap number p.0 ∙ k.0), o.have) }
    go m (Block lines ∷ cs) k j on =
        let b = filled-block f below m.middle m.first (sym (block-here n f below j.0) ∙ m.here) in
        let o = on cs k.1 j.1 in
        record {
          block = b.0 ++ o.block;
          whole = b.1 ∙ (ap (λ r. b.0 ++ r) o.whole ∙ sym (append_assoc b.0 o.block rest));
          have = (b.0, o.block, refl, (m.first, b.2, k.0), o.have);
        }

-- ---- plain fields keep their texts

-- the texts before number `n` are the same, and there are as many
abbrev pub Agree : (n : ℕ) → (texts others : Texts) → Type 0
Agree n [] [] = Unit {0}
Agree n [] (u ∷ us) = ⊥
Agree n (t ∷ ts) [] = ⊥
Agree n (t ∷ ts) (u ∷ us) = (nat_lt 0 n ≡ true → t ≡ u) × Agree (n - 1) ts us

pub filled-agree : (n : ℕ) (fields : List Field) (below rest : List (List ℕ)) (texts : Texts) → filled_fields n fields below ≡ Some (texts, rest) → Agree n (map text fields) texts
filled-agree n [] below rest texts h =
    let parts = some_pair_parts [] texts below rest h in subst (λ ts. Agree n [] ts) parts.0 tt
filled-agree n (f ∷ fs) below rest texts h =
    let m = more-filled n f fs below rest texts h in
    subst (λ ts. Agree n (map text (f ∷ fs)) ts) (sym m.texts_are)
    ((λ plain. (taken-plain n f fs below rest texts m plain).0), filled-agree (n - 1) fs m.middle rest m.others m.there)

-- ---- fields without their lines

-- texts have these contents, but for those of blocks
abbrev HasPlain : (text : List ℕ) → Content → Type 0
HasPlain t (Text u) = t ≡ u
HasPlain t (Number n) = number t ≡ Some n
HasPlain t (Block lines) = Unit {0}

abbrev pub HavePlain : Texts → List Content → Type 0
HavePlain [] [] = Unit {0}
HavePlain [] (c ∷ contents) = ⊥
HavePlain (t ∷ ts) [] = ⊥
HavePlain (t ∷ ts) (c ∷ contents) = HasPlain t c × HavePlain ts contents

pub contents-plain : (fields : List Field) (below : List (List ℕ)) (contents : List Content) → HaveContents fields below contents → HavePlain (map text fields) contents
contents-plain [] below [] h = tt
contents-plain [] below (c ∷ contents) h = absurd h
contents-plain (f ∷ fs) below [] h = absurd h
contents-plain (f ∷ fs) below (Text t ∷ contents) (first, others, whole, here, have) = (here.1, contents-plain fs others contents have)
contents-plain (f ∷ fs) below (Number n ∷ contents) (first, others, whole, here, have) = (here.1, contents-plain fs others contents have)
contents-plain (f ∷ fs) below (Block lines ∷ contents) (first, others, whole, here, have) = (tt, contents-plain fs others contents have)

pub texts-plain : (ts : Texts) (contents : List Content) → HaveTexts ts contents → HavePlain ts contents
texts-plain [] [] h = tt
texts-plain [] (c ∷ contents) h = absurd h
texts-plain (t ∷ ts) [] h = absurd h
texts-plain (t ∷ ts) (Text u ∷ contents) h = (h.0, texts-plain ts contents h.1)
texts-plain (t ∷ ts) (Number n ∷ contents) h = (h.0, texts-plain ts contents h.1)
texts-plain (t ∷ ts) (Block lines ∷ contents) h = (tt, texts-plain ts contents h.1)

pub as-many : (ts : Texts) (contents : List Content) → HavePlain ts contents → length ts ≡ length contents
as-many [] [] h = refl
as-many [] (c ∷ contents) h = absurd h
as-many (t ∷ ts) [] h = absurd h
as-many (t ∷ ts) (c ∷ contents) h = let others = as-many ts contents h.1 in omega (arith, others)
