-- What a line says, with the lines of its blocks below it, is what is read of it.
use Rattle.std.proofs.Common.{◌≡◌, ℕ, ◌+◌, ◌-◌, ◌≤◌, List, [], ◌∷◌, ◌++◌, length, map, refl, sym, ap, ◌∙◌, subst, inl, inr, arith, codes}
use Rattle.std.specs.Prelude.{◌⊎◌, Option, Some, None, option_map, option_and_then}
use Rattle.std.proofs.lemmas.Option.{some_pair_parts}
use Rattle.mk_edit_language.specs.Edits.{Edit}
use Rattle.mk_history.specs.Machine.{Command, Apply}
use Rattle.mk_script.specs.Fields.{Field, text, BeginsWithField, HasFields}
use Rattle.mk_script.specs.Lines.{HasCommand, Saying, Plain, Try, Or, Says}
use Rattle.mk_script.specs.FieldReading.{fields_within}
use Rattle.mk_script.specs.CommandTable.{command_fields, IsCommand}
use Rattle.mk_script.specs.CommandReading.{Texts, worded, edit_in, command_after, saying_after, saying_in}
use Rattle.mk_script.specs.BlockReading.{filled_fields, plain_of_edit, plain_fields, plain_with, plain_behind_try, texts_below, texts_of_line, said_from, saying}
use Rattle.mk_script.specs.declared.table.Word.{Word}
use Rattle.mk_script.specs.declared.table.Word.TheVariants as word
use Rattle.mk_script.proofs.on_fields.FirstLemmas.{has-fields, fields-has}
use Rattle.mk_script.proofs.on_commands.TextContents.{AreCommand}
use Rattle.mk_script.proofs.on_commands.TableLemmas.{text_of, mapped, chained}
use Rattle.mk_script.proofs.on_commands.ReadLemmas.{edit-read, command-read, few}
use Rattle.mk_script.proofs.on_commands.WrittenLemmas.{worded-is, in-written, command-written}
use Rattle.mk_script.proofs.on_commands.FilledLemmas.{Fit, AreTaken, contents-plain, texts-plain, as-many, has-filled, filled-has, filled-agree, one-filled, plain-here, more-filled, taken-plain}
use Rattle.mk_script.proofs.on_commands.PlainLemmas.{some-more, one-less, same-edit, same-line, edit-fit, command-fit, with-some}

-- ---- what is said is read

texts-many : (fields : List Field) → length (map text fields) ≡ length fields
texts-many [] = refl
texts-many (f ∷ fs) = let others = texts-many fs in omega (arith, others)

few-fields : (fields : List Field) (below : List (List ℕ)) (c : Command Edit) → IsCommand fields below c → length fields ≤ 8
few-fields fields below c is =
    let many = as-many (map text fields) (command_fields c) (contents-plain fields below (command_fields c) is) in
    let same = texts-many fields in
    let k = few c in
    omega (arith, many, same, k)

line-read : (line : List ℕ) (below rest : List (List ℕ)) (fields : List Field) (texts : Texts) (x : Saying) → HasFields line fields → length fields ≤ 9
    → texts_below fields below ≡ Some (texts, rest) → saying_in texts ≡ Some x → saying line below ≡ Some (x, rest)
line-read line below rest fields texts x has few filled said =
    let within = has-fields 9 line fields has few in
    let found : texts_of_line line below ≡ Some (texts, rest) = ap (λ o. option_and_then (λ (fs : List Field). texts_below fs below) o) within ∙ filled in
    ap (λ o. option_and_then said_from o) found
    ∙ ap (λ o. option_map (λ (y : Saying). (y, rest)) o) said

-- an edit behind a word that stands before edits
after-filled : (w : Word) (f : Field) (fs : List Field) (block rest : List (List ℕ)) (e : Edit) → worded (text f ∷ map text fs) ≡ Some (w, map text fs)
    → plain_behind_try w (map text fs) ≡ plain_of_edit (map text fs) → IsCommand fs block (Apply e)
    → (texts : Texts) × (texts_below (f ∷ fs) (block ++ rest) ≡ Some (text f ∷ texts, rest)) × AreCommand texts (Apply e)
after-filled w f fs block rest e is before command =
    let ts = map text fs in
    let count : plain_fields (text f ∷ ts) ≡ 1 + plain_of_edit ts = ap (λ o. plain_with plain_behind_try o) is ∙ ap (λ n. 1 + n) before in
    let fit = edit-fit e ts (contents-plain fs block (command_fields (Apply e)) command) in
    let filled = has-filled (plain_of_edit ts) fs block rest (command_fields (Apply e)) command fit.fit in
    let n = plain_of_edit ts in
    let others : filled_fields ((1 + n) - 1) fs (block ++ rest) ≡ Some (filled.0, rest) = ap (λ k. filled_fields k fs (block ++ rest)) (one-less n) ∙ filled.1 in (
      filled.0,
      ap (λ k. filled_fields k (f ∷ fs) (block ++ rest)) count
          ∙ one-filled (1 + n) f fs (block ++ rest) (block ++ rest) rest (text f) filled.0 (plain-here (1 + n) f (block ++ rest) (some-more n)) others,
      filled.2,
    )

pub has-saying : (line : List ℕ) (block rest : List (List ℕ)) (x : Saying) → Says line block x → saying line (block ++ rest) ≡ Some (x, rest)
has-saying line block rest (Plain c) (fields, has, is) =
    let few = few-fields fields block c is in
    let fit = command-fit c (map text fields) (contents-plain fields block (command_fields c) is) in
    let filled = has-filled (plain_fields (map text fields)) fields block rest (command_fields c) is fit in
    line-read line (block ++ rest) rest fields filled.0 (Plain c) has (omega (arith, few)) filled.1 (command-read filled.0 c filled.2)
has-saying line block rest (Try e) (f, fs, is_word, has, is) =
    let few = few-fields fs block (Apply e) is in
    let filled = after-filled word.Try f fs block rest e (ap (λ t. worded (t ∷ map text fs)) is_word) refl is in
    line-read line (block ++ rest) rest (f ∷ fs) (text f ∷ filled.0) (Try e) has (omega (arith, few)) filled.1
    (ap (λ t. saying_in (t ∷ filled.0)) is_word ∙ ap (λ o. option_map Try o) (edit-read filled.0 e filled.2))
has-saying line block rest (Or e) (f, fs, is_word, has, is) =
    let few = few-fields fs block (Apply e) is in
    let filled = after-filled word.Or f fs block rest e (ap (λ t. worded (t ∷ map text fs)) is_word) refl is in
    line-read line (block ++ rest) rest (f ∷ fs) (text f ∷ filled.0) (Or e) has (omega (arith, few)) filled.1
    (ap (λ t. saying_in (t ∷ filled.0)) is_word ∙ ap (λ o. option_map Or o) (edit-read filled.0 e filled.2))

-- ---- and what is read is said

-- Some of the lines below a line are those of its blocks, and with them it says this.
pub record IsSaid (line : List ℕ) (below rest : List (List ℕ)) (x : Saying) : Type 0 where
  pub block : List (List ℕ)
  pub whole : below ≡ block ++ rest
  pub says : Says line block x

-- the first field and the lines of the others, which are an edit
record IsEditBehind (f : Field) (fs : List Field) (word : List ℕ) (below rest : List (List ℕ)) (e : Edit) : Type 0 where
  is_word : text f ≡ word
  taken : AreTaken fs below rest (command_fields (Apply e))

edit-behind : (w : Word) (f : Field) (fs : List Field) (below rest : List (List ℕ)) (os : Texts) (e : Edit) → texts_below (f ∷ fs) below ≡ Some (text_of w ∷ os, rest)
    → ((us : Texts) → worded (text_of w ∷ us) ≡ Some (w, us)) → ((us : Texts) → plain_behind_try w us ≡ plain_of_edit us) → edit_in os ≡ Some e → IsEditBehind f fs (text_of w) below rest e
edit-behind w f fs below rest os e filled words before said =
    let ts = map text fs in
    let m = more-filled (plain_fields (text f ∷ ts)) f fs below rest (text_of w ∷ os) filled in
    let plain = taken-plain (plain_fields (text f ∷ ts)) f fs below rest (text_of w ∷ os) m (with-some plain_behind_try (worded (text f ∷ ts))) in
    let parts = list-parts (text_of w) m.first os m.others m.texts_are in
    let is_word : text f ≡ text_of w = plain.0 ∙ sym parts.0 in
    let n = plain_of_edit ts in
    let count : plain_fields (text f ∷ ts) ≡ 1 + n = ap (λ t. plain_fields (t ∷ ts)) is_word ∙ (ap (λ o. plain_with plain_behind_try o) (words ts) ∙ ap (λ k. 1 + k) (before ts)) in
    let less : plain_fields (text f ∷ ts) - 1 ≡ n = ap (λ k. k - 1) count ∙ one-less n in
    let there : filled_fields n fs below ≡ Some (os, rest) =
    ap (λ k. filled_fields k fs below) (sym less) ∙ (ap (λ b. filled_fields (plain_fields (text f ∷ ts) - 1) fs b) plain.1 ∙ (m.there ∙ ap (λ us. Some (us, rest)) (sym parts.1))) in
    let is = in-written os e said in
    let fit = edit-fit e os (texts-plain os (command_fields (Apply e)) is) in
    let same = same-edit ts os (filled-agree n fs below rest os there) in
    record {
      is_word = is_word;
      taken = filled-has n fs below rest os (command_fields (Apply e)) there is (subst (λ k. Fit k (command_fields (Apply e))) (sym same) fit.fit);
    }
  where
    list-parts : (t u : List ℕ) (ts us : Texts) → t ∷ ts ≡ u ∷ us → (t ≡ u) × (ts ≡ us)
    list-parts t u ts us h = (cc, cc)

no_fields : (below rest : List (List ℕ)) (t : List ℕ) (os : Texts) → texts_below [] below ≡ Some (t ∷ os, rest) → ⊥
no_fields below rest t os h = let parts = some_pair_parts [] (t ∷ os) below rest h in let no = parts.0 in absurd (cc)

after-said : (line : List ℕ) (fields : List Field) (below rest : List (List ℕ)) (w : Word) (os : Texts) (x : Saying) → HasFields line fields
    → texts_below fields below ≡ Some (text_of w ∷ os, rest) → saying_after w os ≡ Some x → IsSaid line below rest x
after-said line [] below rest w os x has filled h = absurd (no_fields below rest (text_of w) os filled)
after-said line (f ∷ fs) below rest word.Try os x has filled h =
    let m = mapped Try (edit_in os) x h in
    let b = edit-behind word.Try f fs below rest os m.0 filled (λ us. refl) (λ us. refl) m.1 in
    record { block = b.taken.block; whole = b.taken.whole; says = subst (λ s. Says line b.taken.block s) m.2 (f, fs, b.is_word, has, b.taken.have) }
after-said line (f ∷ fs) below rest word.Or os x has filled h =
    let m = mapped Or (edit_in os) x h in
    let b = edit-behind word.Or f fs below rest os m.0 filled (λ us. refl) (λ us. refl) m.1 in
    record { block = b.taken.block; whole = b.taken.whole; says = subst (λ s. Says line b.taken.block s) m.2 (f, fs, b.is_word, has, b.taken.have) }
after-said line (f ∷ fs) below rest w os x has filled h =
    let m = mapped Plain (command_after w os) x h in
    let texts = text_of w ∷ os in
    let is = command-written w os m.0 m.1 in
    let fit = command-fit m.0 texts (texts-plain texts (command_fields m.0) is) in
    let n = plain_fields (map text (f ∷ fs)) in
    let same = same-line (map text (f ∷ fs)) texts (filled-agree n (f ∷ fs) below rest texts filled) in
    let taken = filled-has n (f ∷ fs) below rest texts (command_fields m.0) filled is (subst (λ k. Fit k (command_fields m.0)) (sym same) fit) in
    record { block = taken.block; whole = taken.whole; says = subst (λ s. Says line taken.block s) m.2 (f ∷ fs, has, taken.have) }

pub saying-written : (line : List ℕ) (below rest : List (List ℕ)) (x : Saying) → saying line below ≡ Some (x, rest) → IsSaid line below rest x
saying-written line below rest x h =
    let c = chained said_from (texts_of_line line below) (x, rest) h in
    let m = mapped (λ (y : Saying). (y, c.0.1)) (saying_in c.0.0) (x, rest) c.2 in
    let said : saying_in c.0.0 ≡ Some x = m.1 ∙ ap (λ (p : Saying × List (List ℕ)). Some p.0) m.2 in
    let left : c.0.1 ≡ rest = ap (λ (p : Saying × List (List ℕ)). p.1) m.2 in
    let d = chained (λ (fs : List Field). texts_below fs below) (fields_within 9 line) c.0 c.1 in
    let w = chained (λ (p : Word × Texts). saying_after p.0 p.1) (worded c.0.0) x said in
    let filled : texts_below d.0 below ≡ Some (text_of w.0.0 ∷ w.0.1, rest) =
    d.2 ∙ (ap (λ ts. Some (ts, c.0.1)) (worded-is c.0.0 w.0 w.1) ∙ ap (λ r. Some (text_of w.0.0 ∷ w.0.1, r)) left) in
    after-said line d.0 below rest w.0.0 w.0.1 x (fields-has 9 line d.0 d.1) filled w.2

-- ---- a line that begins with neither word says a command

pub without-words : (line : List ℕ) (block : List (List ℕ)) → ((field : Field) (rest : List ℕ) → BeginsWithField line field rest → ((text field ≡ codes "try") ⊎ (text field ≡ codes "or")) → ⊥)
    → (x : Saying) → Says line block x → (c : Command Edit) × HasCommand line block c
without-words line block no_word (Plain c) h = (c, h)
without-words line block no_word (Try e) (f, fs, is_word, has, is) = absurd (no_word f has.0 has.1 (inl is_word))
without-words line block no_word (Or e) (f, fs, is_word, has, is) = absurd (no_word f has.0 has.1 (inr is_word))
