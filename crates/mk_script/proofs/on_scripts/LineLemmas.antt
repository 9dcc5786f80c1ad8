-- What a line is, as the code reads it: it is skipped, says something, or neither.
use Rattle.std.proofs.Common.{◌≡◌, ℕ, Bool, true, false, List, [], ◌∷◌, ◌++◌, refl, sym, ap, ◌∙◌, subst, inl, inr, take, drop, eqb-true}
use Rattle.std.specs.Prelude.{◌==◌, ◌||◌, Option, Some, None, option_map, option_and_then}
use Rattle.std.specs.List.{AllByRecursion}
use Rattle.std.proofs.lemmas.List.{append_cancel_right}
use Rattle.std.proofs.lemmas.Option.{some_pair_parts}
use Rattle.mk_history.specs.Machine.{Apply}
use Rattle.mk_script.specs.Fields.{Field, Bare}
use Rattle.mk_script.specs.Blocks.{end_word, HasTextBy}
use Rattle.mk_script.specs.CommandTable.{Content, Text, Number, Block, command_fields, HaveContents}
use Rattle.mk_script.specs.Lines.{IsComment, IsSkipped, Saying, Plain, Try, Or, Says}
use Rattle.mk_script.specs.ScriptLaws.{LineSaysOneThing, LinesWithoutMarksStandAlone}
use Rattle.mk_script.specs.FieldReading.{bare_len, is_blank, fields_within}
use Rattle.mk_script.specs.CommandReading.{Texts, saying_in}
use Rattle.mk_script.specs.BlockReading.{put_text, filled_fields, texts_below, said_from, saying}
use Rattle.mk_script.specs.ReaderAnswers.{begins_comment, is_skipped}
use Rattle.mk_script.proofs.on_fields.BlankLemmas.{one_more, blank-is, is-blank}
use Rattle.mk_script.proofs.on_fields.FirstLemmas.{fields-one}
use Rattle.mk_script.proofs.on_commands.SayingLemmas.{IsSaid, has-saying, saying-written}

comment-is : (line : List ℕ) → begins_comment line ≡ true → IsComment line
comment-is [] h = absurd (cc)
comment-is (b ∷ line) h = eqb-true b 35 h

pub skipped-is : (line : List ℕ) → is_skipped line ≡ true → IsSkipped line
skipped-is line h = go (begins_comment line) refl h
  where
    go : (c : Bool) → begins_comment line ≡ c → (c || is_blank line) ≡ true → IsSkipped line
    go true e k = inl (comment-is line e)
    go false e k = inr (blank-is line k)

pub is-skipped : (line : List ℕ) → IsSkipped line → is_skipped line ≡ true
is-skipped [] h = refl
is-skipped (b ∷ line) (inl h) = rw h refl
is-skipped (b ∷ line) (inr h) = go (b == 35)
  where
    go : (c : Bool) → (c || is_blank (b ∷ line)) ≡ true
    go true = refl
    go false = is-blank (b ∷ line) h

-- ---- a line that is skipped says nothing

-- what the fields of a line say
abbrev said_of : (below : List (List ℕ)) → Option (List Field) → Option (Saying × List (List ℕ))
said_of below fields =
    option_and_then said_from (option_and_then (λ (fs : List Field). texts_below fs below) fields)

-- the fields after the first of nine
abbrev fields_after : (field rest : List ℕ) → Option (List Field)
fields_after field rest = option_map (λ (fs : List Field). Bare field ∷ fs) (fields_within 8 rest)

-- no word of the table begins with `#`
comment-none : (line : List ℕ) (below : List (List ℕ)) → saying (35 ∷ line) below ≡ None
comment-none line below =
    ap (λ n. said_of below (fields_after (take n (35 ∷ line)) (drop n (35 ∷ line)))) (one_more (bare_len line))
    ∙ go (fields_within 8 (drop (bare_len line) line))
  where
    go : (o : Option (List Field)) → said_of below (option_map (λ (fs : List Field). Bare (35 ∷ take (bare_len line) line) ∷ fs) o) ≡ None
    go None = refl
    go (Some fs) = by_texts (filled_fields 8 fs below)
      where
        by_texts : (q : Option (Texts × List (List ℕ)))
            → option_and_then said_from (put_text (35 ∷ take (bare_len line) line) q) ≡ None
        by_texts None = refl
        by_texts (Some q) = refl

blank-none : (line : List ℕ) (below : List (List ℕ)) → is_blank line ≡ true → saying line below ≡ None
blank-none line below h = rw h refl

skipped-none : (line : List ℕ) (below : List (List ℕ)) → IsSkipped line → saying line below ≡ None
skipped-none [] below h = refl
skipped-none (b ∷ line) below (inl h) = ap (λ x. saying (x ∷ line) below) h ∙ comment-none line below
skipped-none (b ∷ line) below (inr h) = blank-none (b ∷ line) below (is-blank (b ∷ line) h)

pub skipped-says_nothing : (line : List ℕ) (block : List (List ℕ)) (x : Saying) → IsSkipped line → Says line block x → ⊥
skipped-says_nothing line block x h k = let none = skipped-none line (block ++ []) h in let some = has-saying line block [] x k in cc

-- ---- one thing

pub one_saying : LineSaysOneThing
one_saying line block rest others more x y h k same =
    let first = has-saying line block rest x h in
    let second = has-saying line others more y k in
    let parts = some_pair_parts x y rest more (sym first ∙ (ap (λ b. saying line b) same ∙ second)) in
    (parts.0, append_cancel_right block others rest (same ∙ ap (λ r. others ++ r) (sym parts.1)))

-- With lines below it a line is skipped, says something, or neither.
pub data LineIs (line : List ℕ) (below : List (List ℕ)) : Type 0 where
  Skipped : IsSkipped line → LineIs line below
  Said : (rest : List (List ℕ)) → (x : Saying) → IsSaid line below rest x → LineIs line below
  Neither : (IsSkipped line → ⊥) → ((block rest : List (List ℕ)) (x : Saying) → below ≡ block ++ rest → Says line block x → ⊥) → LineIs line below

pub says-or-not : (line : List ℕ) (below : List (List ℕ)) → LineIs line below
says-or-not line below = go (is_skipped line) refl (saying line below) refl
  where
    go : (b : Bool) → is_skipped line ≡ b → (o : Option (Saying × List (List ℕ))) → saying line below ≡ o → LineIs line below
    go true e o k = Skipped (skipped-is line e)
    go false e (Some (x, rest)) k = Said rest x (saying-written line below rest x k)
    go false e None k = Neither (λ s. let t = is-skipped line s in cc) (λ block rest x whole says. let some = ap (λ b. saying line b) whole ∙ has-saying line block rest x says in cc)

pub unskipped : (line : List ℕ) → is_skipped line ≡ false → IsSkipped line → ⊥
unskipped line h s = let e = is-skipped line s in cc

-- ---- a line whose fields are no marks stands alone

none-below : (fields : List Field) (below : List (List ℕ)) (contents : List Content) → AllByRecursion (λ field. end_word field ≡ None) fields → HaveContents fields below contents → below ≡ []
none-below [] below [] none h = h
none-below [] below (c ∷ contents) none h = absurd h
none-below (f ∷ fs) below [] none h = absurd h
none-below (f ∷ fs) below (Text t ∷ contents) none (first, others, whole, here, have) = whole ∙ (ap (λ b. b ++ others) here.0 ∙ none-below fs others contents none.1 have)
none-below (f ∷ fs) below (Number n ∷ contents) none (first, others, whole, here, have) = whole ∙ (ap (λ b. b ++ others) here.0 ∙ none-below fs others contents none.1 have)
none-below (f ∷ fs) below (Block lines ∷ contents) none (first, others, whole, here, have) =
    let alone = subst (λ o. HasTextBy o f first here.0) none.0 here.1 in
    whole ∙ (ap (λ b. b ++ others) alone.0 ∙ none-below fs others contents none.1 have)

pub lines-alone : LinesWithoutMarksStandAlone
lines-alone line fields block (Plain c) has none (others, also, is) =
    none-below others block (command_fields c) (subst (λ fs. AllByRecursion (λ field. end_word field ≡ None) fs) (fields-one line fields others has also) none) is
lines-alone line fields block (Try e) has none (f, others, is_word, also, is) =
    none-below others block (command_fields (Apply e)) (subst (λ fs. AllByRecursion (λ field. end_word field ≡ None) fs) (fields-one line fields (f ∷ others) has also) none).1 is
lines-alone line fields block (Or e) has none (f, others, is_word, also, is) =
    none-below others block (command_fields (Apply e)) (subst (λ fs. AllByRecursion (λ field. end_word field ≡ None) fs) (fields-one line fields (f ∷ others) has also) none).1 is
