-- How many fields of a line stand before those that may have blocks: as many as those of its command that are none.
use Rattle.std.proofs.Common.{◌≡◌, ℕ, ◌+◌, ◌-◌, ◌≤◌, true, false, List, [], ◌∷◌, ◌++◌, length, refl, sym, ap, ◌∙◌, subst, arith, codes}
use Rattle.std.specs.Prelude.{nat_lt, Option, Some, None, option_map}
use Rattle.std.proofs.lemmas.Bool.{lt-ltb}
use Rattle.mk_class.specs.OperatorTexts.{operator_text}
use Rattle.mk_edit_language.specs.Edits.{Place, Top, Bottom, BeforeVar, AfterVar, AfterLastVar, BeforeRule, AfterRule, Site, AtPlace, BeforeRun, AfterRun, OfRun, OfRuleRun, NewAssign, NewRule, One, Every, ValueChange, Set, SetIf, Append, Add, Remove, LineChange, Prepend, ReplaceWord, InsertWord, Substitute, SetOperator, EachEdit, ChangeEach, SubstValues, SubstRecipe, SubstRecipes, AddPrereq, RemovePrereq, ReplacePrereq, ByNumber, ByText, Last, At, OfAssign, OfRule, OfRecipe, CommentOut, Uncomment, Edit, ChangeValue, ChangeLine, ChangePrereqs, AddLine, AddRecipe, SetRecipe, RemoveLines, RenameTarget, ExchangeLines, SwitchLine, EachLine}
use Rattle.mk_edit_language.specs.declared.edit.Side.TheVariants.{Before, After}
use Rattle.mk_edit_language.specs.NewLines.{rule_separator_text}
use Rattle.mk_history.specs.Machine.{Command, Apply, Undo, Redo, Begin, End, Cancel}
use Rattle.mk_script.specs.CommandTable.{Content, Text, Number, Block, texts, after_nth, place_words, nth_of_place, change_words, line_change_words, exchange_fields, each_fields, command_fields}
use Rattle.mk_script.specs.WordReading.{named, words, places}
use Rattle.mk_script.specs.CommandReading.{Texts, worded}
use Rattle.mk_script.specs.BlockReading.{plain_at, plain_in_place, plain_behind, plain_behind_nth, plain_behind_try, plain_with, plain_of_edit, plain_fields}
use Rattle.mk_script.specs.declared.table.Word.{Word}
use Rattle.mk_script.specs.declared.table.Word.TheVariants as word
use Rattle.mk_script.specs.declared.word.PlaceWord.{PlaceWord}
use Rattle.mk_script.specs.declared.word.PlaceWord.TheVariants as spot
use Rattle.mk_script.proofs.on_commands.TableLemmas.{text_of}
use Rattle.mk_script.proofs.on_commands.FilledLemmas.{Fit, Agree, HavePlain}

-- ---- numbers

pub some-more : (n : ℕ) → nat_lt 0 (1 + n) ≡ true
some-more n = lt-ltb 0 (1 + n) (omega arith)

pub one-less : (n : ℕ) → (1 + n) - 1 ≡ n
one-less n = omega arith

-- ---- the count looks only at fields before it

-- the word of the first field
worded-first : (t : List ℕ) (ts : Texts) (o : Option Word) → named words t ≡ o → worded (t ∷ ts) ≡ option_map (λ (w : Word). (w, ts)) o
worded-first t ts o h = ap (λ x. option_map (λ (w : Word). (w, ts)) x) h

same-with : (behind : Word → Texts → ℕ) → ((w : Word) (ts us : Texts) → Agree (behind w ts) ts us → behind w ts ≡ behind w us) → (ts us : Texts)
    → Agree (plain_with behind (worded ts)) ts us → plain_with behind (worded ts) ≡ plain_with behind (worded us)
same-with behind same [] [] h = refl
same-with behind same [] (u ∷ us) h = absurd h
same-with behind same (t ∷ ts) [] h = absurd h
same-with behind same (t ∷ ts) (u ∷ us) h = go (named words t) refl (subst (λ o. Agree (plain_with behind o) (t ∷ ts) (u ∷ us)) (worded-first t ts (named words t) refl) h)
  where
    go : (o : Option Word) → named words t ≡ o → Agree (plain_with behind (option_map (λ (w : Word). (w, ts)) o)) (t ∷ ts) (u ∷ us)
        → plain_with behind (worded (t ∷ ts)) ≡ plain_with behind (worded (u ∷ us))
    go None e k =
        let first = k.0 refl in
        ap (λ o. plain_with behind o) (worded-first t ts None e) ∙ sym (ap (λ o. plain_with behind o) (worded-first u us None (ap (λ z. named words z) (sym first) ∙ e)))
    go (Some w) e k =
        let first = k.0 (some-more (behind w ts)) in
        let others = same w ts us (subst (λ n. Agree n ts us) (one-less (behind w ts)) k.1) in
        ap (λ o. plain_with behind o) (worded-first t ts (Some w) e)
        ∙ (ap (λ n. 1 + n) others ∙ sym (ap (λ o. plain_with behind o) (worded-first u us (Some w) (ap (λ z. named words z) (sym first) ∙ e))))

at-some : (o : Option PlaceWord) → nat_lt 0 (plain_at o) ≡ true
at-some None = refl
at-some (Some spot.Top) = refl
at-some (Some spot.Bottom) = refl
at-some (Some spot.BeforeLine) = refl
at-some (Some spot.AfterLine) = refl
at-some (Some w) = refl

same-in_place : (ts us : Texts) → Agree (plain_in_place ts) ts us → plain_in_place ts ≡ plain_in_place us
same-in_place [] [] h = refl
same-in_place [] (u ∷ us) h = absurd h
same-in_place (t ∷ ts) [] h = absurd h
same-in_place (t ∷ ts) (u ∷ us) h = ap (λ z. plain_at (named places z)) (h.0 (at-some (named places t)))

same-behind : (w : Word) (ts us : Texts) → Agree (plain_behind w ts) ts us → plain_behind w ts ≡ plain_behind w us
same-behind word.Insert ts us h = same-in_place ts us h
same-behind word.LineReplace ts us h = refl
same-behind word.LineRemove ts us h = refl
same-behind word.RuleReplace ts us h = refl
same-behind w ts us h = refl

same-behind_nth : (w : Word) (ts us : Texts) → Agree (plain_behind_nth w ts) ts us → plain_behind_nth w ts ≡ plain_behind_nth w us
same-behind_nth word.Nth [] [] h = refl
same-behind_nth word.Nth [] (u ∷ us) h = absurd h
same-behind_nth word.Nth (t ∷ ts) [] h = absurd h
same-behind_nth word.Nth (t ∷ ts) (u ∷ us) h =
    ap (λ n. 1 + n) (same-with plain_behind same-behind ts us (subst (λ n. Agree n ts us) (one-less (plain_with plain_behind (worded ts))) h.1))
same-behind_nth w ts us h = same-behind w ts us h

pub same-edit : (ts us : Texts) → Agree (plain_of_edit ts) ts us → plain_of_edit ts ≡ plain_of_edit us
same-edit ts us h = same-with plain_behind_nth same-behind_nth ts us h

same-behind_try : (w : Word) (ts us : Texts) → Agree (plain_behind_try w ts) ts us → plain_behind_try w ts ≡ plain_behind_try w us
same-behind_try word.Try ts us h = same-edit ts us h
same-behind_try word.Or ts us h = same-edit ts us h
same-behind_try w ts us h = same-behind_nth w ts us h

pub same-line : (ts us : Texts) → Agree (plain_fields ts) ts us → plain_fields ts ≡ plain_fields us
same-line ts us h = same-with plain_behind_try same-behind_try ts us h

-- ---- the contents before the count are no blocks, and the others are

-- one more that is no block
text-fit : (n : ℕ) (t : List ℕ) (contents : List Content) → Fit n contents → Fit (1 + n) (Text t ∷ contents)
text-fit n t contents h = (some-more n, subst (λ k. Fit k contents) (sym (one-less n)) h)

number-fit : (n d : ℕ) (contents : List Content) → Fit n contents → Fit (1 + n) (Number d ∷ contents)
number-fit n d contents h = (some-more n, subst (λ k. Fit k contents) (sym (one-less n)) h)

texts-fit : (n : ℕ) (ts : Texts) → length ts ≤ n → Fit n (texts ts)
texts-fit n [] few = tt
texts-fit n (t ∷ ts) few = (lt-ltb 0 n (omega (arith, few)), texts-fit (n - 1) ts (omega (arith, few)))

-- Texts fit contents; and what may stand before an edit in a line does not stand there.
pub record AreFit (ts : Texts) (contents : List Content) : Type 0 where
  pub fit : Fit (plain_of_edit ts) contents
  pub alone : plain_fields ts ≡ plain_of_edit ts

-- an edit by its word, which may stand behind `nth` and a number
numbered-fit : (nth : Option ℕ) (w : Word) (contents : List Content) → named words (text_of w) ≡ Some w → ((fs : Texts) → plain_behind_nth w fs ≡ plain_behind w fs)
    → ((fs : Texts) → plain_behind_try w fs ≡ plain_behind w fs) → ((fs : Texts) → HavePlain fs contents → Fit (plain_behind w fs) contents)
    → (ts : Texts) → HavePlain ts (after_nth nth (Text (text_of w) ∷ contents)) → AreFit ts (after_nth nth (Text (text_of w) ∷ contents))
numbered-fit None w contents is no_nth no_try fit [] h = absurd h
numbered-fit None w contents is no_nth no_try fit (f ∷ fs) h =
    let first = worded-first f fs (Some w) (ap (λ z. named words z) h.0 ∙ is) in
    let count : plain_of_edit (f ∷ fs) ≡ 1 + plain_behind w fs = ap (λ o. plain_with plain_behind_nth o) first ∙ ap (λ n. 1 + n) (no_nth fs) in
    record {
      fit = subst (λ n. Fit n (Text (text_of w) ∷ contents)) (sym count) (text-fit (plain_behind w fs) (text_of w) contents (fit fs h.1));
      alone = ap (λ o. plain_with plain_behind_try o) first ∙ (ap (λ n. 1 + n) (no_try fs) ∙ sym count);
    }
numbered-fit (Some n) w contents is no_nth no_try fit [] h = absurd h
numbered-fit (Some n) w contents is no_nth no_try fit (f ∷ []) h = absurd h.1
numbered-fit (Some n) w contents is no_nth no_try fit (f ∷ d ∷ []) h = absurd h.1.1
numbered-fit (Some n) w contents is no_nth no_try fit (f ∷ d ∷ g ∷ fs) h =
    let nth = worded-first f (d ∷ g ∷ fs) (Some word.Nth) (ap (λ z. named words z) h.0) in
    let first = worded-first g fs (Some w) (ap (λ z. named words z) h.1.1.0 ∙ is) in
    let inner : 1 + (1 + plain_with plain_behind (worded (g ∷ fs))) ≡ 1 + (1 + (1 + plain_behind w fs)) = ap (λ o. 1 + (1 + plain_with plain_behind o)) first in
    let count : plain_of_edit (f ∷ d ∷ g ∷ fs) ≡ 1 + (1 + (1 + plain_behind w fs)) = ap (λ o. plain_with plain_behind_nth o) nth ∙ inner in
    let one = text-fit (plain_behind w fs) (text_of w) contents (fit fs h.1.1.1) in
    let two = number-fit (1 + plain_behind w fs) n (Text (text_of w) ∷ contents) one in
    let three = text-fit (1 + (1 + plain_behind w fs)) (codes "nth") (Number n ∷ Text (text_of w) ∷ contents) two in
    record {
      fit = subst (λ k. Fit k (Text (codes "nth") ∷ Number n ∷ Text (text_of w) ∷ contents)) (sym count) three;
      alone = ap (λ o. plain_with plain_behind_try o) nth ∙ (inner ∙ sym count);
    }

-- an edit of texts alone
text-edit : (nth : Option ℕ) (w : Word) (us : Texts) → named words (text_of w) ≡ Some w → ((fs : Texts) → plain_behind_nth w fs ≡ plain_behind w fs)
    → ((fs : Texts) → plain_behind_try w fs ≡ plain_behind w fs) → ((fs : Texts) → plain_behind w fs ≡ 9) → length us ≤ 9
    → (ts : Texts) → HavePlain ts (after_nth nth (texts (text_of w ∷ us))) → AreFit ts (after_nth nth (texts (text_of w ∷ us)))
text-edit nth w us is no_nth no_try all few = numbered-fit nth w (texts us) is no_nth no_try (λ fs h. subst (λ n. Fit n (texts us)) (sym (all fs)) (texts-fit 9 us few))

change-fit : (nth : Option ℕ) (name : List ℕ) (change : ValueChange) (ts : Texts) → HavePlain ts (after_nth nth (texts (change_words name change)))
    → AreFit ts (after_nth nth (texts (change_words name change)))
change-fit nth name (Set value) = text-edit nth word.Set (name ∷ value ∷ []) refl (λ fs. refl) (λ fs. refl) (λ fs. refl) (omega arith)
change-fit nth name (SetIf old value) = text-edit nth word.SetIf (name ∷ old ∷ value ∷ []) refl (λ fs. refl) (λ fs. refl) (λ fs. refl) (omega arith)
change-fit nth name (Append value) = text-edit nth word.Append (name ∷ value ∷ []) refl (λ fs. refl) (λ fs. refl) (λ fs. refl) (omega arith)
change-fit nth name (Add x) = text-edit nth word.Add (name ∷ x ∷ []) refl (λ fs. refl) (λ fs. refl) (λ fs. refl) (omega arith)
change-fit nth name (Remove x) = text-edit nth word.Drop (name ∷ x ∷ []) refl (λ fs. refl) (λ fs. refl) (λ fs. refl) (omega arith)

change-few : (name : List ℕ) (change : ValueChange) → length (change_words name change) ≤ 9
change-few name (Set value) = omega arith
change-few name (SetIf old value) = omega arith
change-few name (Append value) = omega arith
change-few name (Add x) = omega arith
change-few name (Remove x) = omega arith

line_change-fit : (nth : Option ℕ) (name : List ℕ) (change : LineChange) (ts : Texts) → HavePlain ts (after_nth nth (texts (line_change_words name change)))
    → AreFit ts (after_nth nth (texts (line_change_words name change)))
line_change-fit nth name (Prepend value) = text-edit nth word.Prepend (name ∷ value ∷ []) refl (λ fs. refl) (λ fs. refl) (λ fs. refl) (omega arith)
line_change-fit nth name (ReplaceWord x value) = text-edit nth word.Replace (name ∷ x ∷ value ∷ []) refl (λ fs. refl) (λ fs. refl) (λ fs. refl) (omega arith)
line_change-fit nth name (InsertWord Before x new) = text-edit nth word.AddBefore (name ∷ x ∷ new ∷ []) refl (λ fs. refl) (λ fs. refl) (λ fs. refl) (omega arith)
line_change-fit nth name (InsertWord After x new) = text-edit nth word.AddAfter (name ∷ x ∷ new ∷ []) refl (λ fs. refl) (λ fs. refl) (λ fs. refl) (omega arith)
line_change-fit nth name (Substitute from to) = text-edit nth word.Subst (name ∷ from ∷ to ∷ []) refl (λ fs. refl) (λ fs. refl) (λ fs. refl) (omega arith)
line_change-fit nth name (SetOperator flavor) = text-edit nth word.Operator (name ∷ operator_text flavor ∷ []) refl (λ fs. refl) (λ fs. refl) (λ fs. refl) (omega arith)

place-few : (place : Place) (a b c : List ℕ) → length (place_words place ++ a ∷ b ∷ c ∷ []) ≤ 9
place-few Top a b c = omega arith
place-few Bottom a b c = omega arith
place-few (BeforeVar nth name) a b c = omega arith
place-few (AfterVar nth name) a b c = omega arith
place-few (AfterLastVar name) a b c = omega arith
place-few (BeforeRule nth target) a b c = omega arith
place-few (AfterRule nth target) a b c = omega arith

-- ---- whole lines

-- the fields of `insert`, by the word of its place
in_place-fit : (t : List ℕ) (n : ℕ) (contents : List Content) → plain_at (named places t) ≡ n → Fit n (Text t ∷ contents)
    → (fs : Texts) → HavePlain fs (Text t ∷ contents) → Fit (plain_in_place fs) (Text t ∷ contents)
in_place-fit t n contents is fit [] h = absurd h
in_place-fit t n contents is fit (f ∷ fs) h = subst (λ k. Fit k (Text t ∷ contents)) (sym (ap (λ z. plain_at (named places z)) h.0 ∙ is)) fit

insert-fit : (nth : Option ℕ) (t : List ℕ) (n : ℕ) (contents : List Content) → plain_at (named places t) ≡ n → Fit n (Text t ∷ contents)
    → (ts : Texts) → HavePlain ts (after_nth nth (Text (codes "insert") ∷ Text t ∷ contents)) → AreFit ts (after_nth nth (Text (codes "insert") ∷ Text t ∷ contents))
insert-fit nth t n contents is fit = numbered-fit nth word.Insert (Text t ∷ contents) refl (λ fs. refl) (λ fs. refl) (in_place-fit t n contents is fit)

exchange-fit : (site : Site) (new : List (List ℕ)) (ts : Texts) → HavePlain ts (exchange_fields site new) → AreFit ts (exchange_fields site new)
exchange-fit (AtPlace Top) new = insert-fit None (codes "top") 1 (Block new ∷ []) refl (refl, (refl, tt))
exchange-fit (AtPlace Bottom) new = insert-fit None (codes "bottom") 1 (Block new ∷ []) refl (refl, (refl, tt))
exchange-fit (AtPlace (BeforeVar nth name)) new = insert-fit nth (codes "before-var") 2 (Text name ∷ Block new ∷ []) refl (refl, (refl, (refl, tt)))
exchange-fit (AtPlace (AfterVar nth name)) new = insert-fit nth (codes "after-var") 2 (Text name ∷ Block new ∷ []) refl (refl, (refl, (refl, tt)))
exchange-fit (AtPlace (AfterLastVar name)) new = insert-fit None (codes "after-last-var") 2 (Text name ∷ Block new ∷ []) refl (refl, (refl, (refl, tt)))
exchange-fit (AtPlace (BeforeRule nth target)) new = insert-fit nth (codes "before-rule") 2 (Text target ∷ Block new ∷ []) refl (refl, (refl, (refl, tt)))
exchange-fit (AtPlace (AfterRule nth target)) new = insert-fit nth (codes "after-rule") 2 (Text target ∷ Block new ∷ []) refl (refl, (refl, (refl, tt)))
exchange-fit (BeforeRun nth old) new = insert-fit nth (codes "before-line") 1 (Block old ∷ Block new ∷ []) refl (refl, (refl, (refl, tt)))
exchange-fit (AfterRun nth old) new = insert-fit nth (codes "after-line") 1 (Block old ∷ Block new ∷ []) refl (refl, (refl, (refl, tt)))
exchange-fit (OfRun nth old) [] = numbered-fit nth word.LineRemove (Block old ∷ []) refl (λ fs. refl) (λ fs. refl) (λ fs h. (refl, tt))
exchange-fit (OfRun nth old) (line ∷ lines) = numbered-fit nth word.LineReplace (Block old ∷ Block (line ∷ lines) ∷ []) refl (λ fs. refl) (λ fs. refl) (λ fs h. (refl, (refl, tt)))
exchange-fit (OfRuleRun nth target) [] = text-edit nth word.RuleRemove (target ∷ []) refl (λ fs. refl) (λ fs. refl) (λ fs. refl) (omega arith)
exchange-fit (OfRuleRun nth target) (line ∷ lines) = numbered-fit nth word.RuleReplace (Text target ∷ Block (line ∷ lines) ∷ []) refl (λ fs. refl) (λ fs. refl) (λ fs h. (refl, (refl, tt)))

-- ---- edits of several lines

-- all lines of a name
all-fit : (us : Texts) → length us ≤ 9 → (ts : Texts) → HavePlain ts (texts (codes "all" ∷ us)) → AreFit ts (texts (codes "all" ∷ us))
all-fit us few = text-edit None word.All us refl (λ fs. refl) (λ fs. refl) (λ fs. refl) few

each-fit : (e : EachEdit) (ts : Texts) → HavePlain ts (each_fields e) → AreFit ts (each_fields e)
each-fit (ChangeEach name (Prepend value)) = all-fit (codes "prepend" ∷ name ∷ value ∷ []) (omega arith)
each-fit (ChangeEach name (ReplaceWord x value)) = all-fit (codes "replace" ∷ name ∷ x ∷ value ∷ []) (omega arith)
each-fit (ChangeEach name (InsertWord side x new)) = exchange-fit (AtPlace Top) []
each-fit (ChangeEach name (Substitute from to)) = all-fit (codes "subst" ∷ name ∷ from ∷ to ∷ []) (omega arith)
each-fit (ChangeEach name (SetOperator flavor)) = all-fit (codes "operator" ∷ name ∷ operator_text flavor ∷ []) (omega arith)
each-fit (SubstValues from to) = text-edit None word.ValuesSubst (from ∷ to ∷ []) refl (λ fs. refl) (λ fs. refl) (λ fs. refl) (omega arith)
each-fit (SubstRecipe nth target from to) = text-edit nth word.RecipeSubst (target ∷ from ∷ to ∷ []) refl (λ fs. refl) (λ fs. refl) (λ fs. refl) (omega arith)
each-fit (SubstRecipes from to) = text-edit None word.RecipesSubst (from ∷ to ∷ []) refl (λ fs. refl) (λ fs. refl) (λ fs. refl) (omega arith)

-- ---- and each command

pub edit-fit : (e : Edit) (ts : Texts) → HavePlain ts (command_fields (Apply e)) → AreFit ts (command_fields (Apply e))
edit-fit (ChangeValue (One nth) name change) = change-fit nth name change
edit-fit (ChangeValue Every name change) = all-fit (change_words name change) (change-few name change)
edit-fit (ChangeLine nth name change) = line_change-fit nth name change
edit-fit (AddLine place (NewAssign name flavor value)) =
    text-edit (nth_of_place place) word.Assign (place_words place ++ name ∷ operator_text flavor ∷ value ∷ []) refl (λ fs. refl) (λ fs. refl) (λ fs. refl)
    (place-few place name (operator_text flavor) value)
edit-fit (AddLine place (NewRule targets colons prereqs)) =
    text-edit (nth_of_place place) word.Rule (place_words place ++ targets ∷ rule_separator_text colons ∷ prereqs ∷ []) refl (λ fs. refl) (λ fs. refl) (λ fs. refl)
    (place-few place targets (rule_separator_text colons) prereqs)
edit-fit (RemoveLines (OfAssign nth name)) = text-edit nth word.Unset (name ∷ []) refl (λ fs. refl) (λ fs. refl) (λ fs. refl) (omega arith)
edit-fit (RemoveLines (OfRule nth target)) = text-edit nth word.Unrule (target ∷ []) refl (λ fs. refl) (λ fs. refl) (λ fs. refl) (omega arith)
edit-fit (RemoveLines (OfRecipe nth target (ByNumber n))) =
    numbered-fit nth word.RecipeDel (Text target ∷ Number n ∷ []) refl (λ fs. refl) (λ fs. refl) (λ fs h. (refl, (refl, tt)))
edit-fit (RemoveLines (OfRecipe nth target (ByText old))) = text-edit nth word.RecipeRemove (target ∷ old ∷ []) refl (λ fs. refl) (λ fs. refl) (λ fs. refl) (omega arith)
edit-fit (ChangePrereqs nth target (AddPrereq false x)) = text-edit nth word.Depend (target ∷ x ∷ []) refl (λ fs. refl) (λ fs. refl) (λ fs. refl) (omega arith)
edit-fit (ChangePrereqs nth target (AddPrereq true x)) = text-edit nth word.DependOrder (target ∷ x ∷ []) refl (λ fs. refl) (λ fs. refl) (λ fs. refl) (omega arith)
edit-fit (ChangePrereqs nth target (RemovePrereq x)) = text-edit nth word.Undepend (target ∷ x ∷ []) refl (λ fs. refl) (λ fs. refl) (λ fs. refl) (omega arith)
edit-fit (ChangePrereqs nth target (ReplacePrereq old new)) = text-edit nth word.DependReplace (target ∷ old ∷ new ∷ []) refl (λ fs. refl) (λ fs. refl) (λ fs. refl) (omega arith)
edit-fit (SwitchLine CommentOut nth name) = text-edit nth word.CommentOut (name ∷ []) refl (λ fs. refl) (λ fs. refl) (λ fs. refl) (omega arith)
edit-fit (SwitchLine Uncomment nth name) = text-edit nth word.Uncomment (name ∷ []) refl (λ fs. refl) (λ fs. refl) (λ fs. refl) (omega arith)
edit-fit (AddRecipe nth target Last line) = text-edit nth word.Recipe (target ∷ line ∷ []) refl (λ fs. refl) (λ fs. refl) (λ fs. refl) (omega arith)
edit-fit (AddRecipe nth target (At n) line) =
    numbered-fit nth word.RecipeInsert (Text target ∷ Number n ∷ texts (line ∷ [])) refl (λ fs. refl) (λ fs. refl) (λ fs h. (refl, (refl, (refl, tt))))
edit-fit (SetRecipe nth target (ByNumber n) line) =
    numbered-fit nth word.RecipeSet (Text target ∷ Number n ∷ texts (line ∷ [])) refl (λ fs. refl) (λ fs. refl) (λ fs h. (refl, (refl, (refl, tt))))
edit-fit (SetRecipe nth target (ByText old) line) = text-edit nth word.RecipeReplace (target ∷ old ∷ line ∷ []) refl (λ fs. refl) (λ fs. refl) (λ fs. refl) (omega arith)
edit-fit (RenameTarget old new) = text-edit None word.Rename (old ∷ new ∷ []) refl (λ fs. refl) (λ fs. refl) (λ fs. refl) (omega arith)
edit-fit (ExchangeLines site new) = exchange-fit site new
edit-fit (EachLine e) = each-fit e

pub with-some : (behind : Word → Texts → ℕ) (o : Option (Word × Texts)) → nat_lt 0 (plain_with behind o) ≡ true
with-some behind None = refl
with-some behind (Some p) = some-more (behind p.0 p.1)

-- a call, which is one word
call-fit : (ts : Texts) (t : List ℕ) → Fit (plain_fields ts) (texts (t ∷ []))
call-fit ts t = (with-some plain_behind_try (worded ts), tt)

pub command-fit : (c : Command Edit) (ts : Texts) → HavePlain ts (command_fields c) → Fit (plain_fields ts) (command_fields c)
command-fit (Apply e) ts h = let are = edit-fit e ts h in subst (λ n. Fit n (command_fields (Apply e))) (sym are.alone) are.fit
command-fit Undo ts h = call-fit ts (codes "undo")
command-fit Redo ts h = call-fit ts (codes "redo")
command-fit Begin ts h = call-fit ts (codes "begin")
command-fit End ts h = call-fit ts (codes "end")
command-fit Cancel ts h = call-fit ts (codes "cancel")
