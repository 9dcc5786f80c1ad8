-- Texts that are a command are read as this command.
use Rattle.std.proofs.Common.{◌≡◌, ℕ, ◌≤◌, true, false, List, [], ◌∷◌, ◌++◌, length, refl, ap, ◌∙◌, arith, codes}
use Rattle.std.specs.Prelude.{Option, Some, None, option_map, option_and_then}
use Rattle.mk_class.specs.OperatorTexts.{operator_text}
use Rattle.mk_edit_language.specs.Edits.{Place, Top, Bottom, BeforeVar, AfterVar, AfterLastVar, BeforeRule, AfterRule, Site, AtPlace, BeforeRun, AfterRun, OfRun, OfRuleRun, NewLine, NewAssign, NewRule, One, Every, ValueChange, Set, SetIf, Append, Add, Remove, LineChange, Prepend, ReplaceWord, InsertWord, Substitute, SetOperator, EachEdit, ChangeEach, SubstValues, SubstRecipe, SubstRecipes, AddPrereq, RemovePrereq, ReplacePrereq, ByNumber, ByText, Last, At, OfAssign, OfRule, OfRecipe, CommentOut, Uncomment, Edit, ChangeValue, ChangeLine, ChangePrereqs, AddLine, AddRecipe, SetRecipe, RemoveLines, RenameTarget, ExchangeLines, SwitchLine, EachLine}
use Rattle.mk_edit_language.specs.declared.edit.Side.TheVariants.{Before, After}
use Rattle.mk_edit_language.specs.LineRuns.{block_lines}
use Rattle.mk_edit_language.specs.NewLines.{rule_separator_text}
use Rattle.mk_edit_language.proofs.on_line_runs.BlockTexts.{block-some}
use Rattle.mk_history.specs.Machine.{Command, Apply, Undo, Redo, Begin, End, Cancel}
use Rattle.mk_script.specs.Lines.{Plain}
use Rattle.mk_script.specs.Numbers.{number}
use Rattle.mk_script.specs.CommandTable.{Content, Text, Number, Block, texts, after_nth, place_words, nth_of_place, change_words, line_change_words, exchange_fields, each_fields, command_fields}
use Rattle.mk_script.proofs.on_commands.TextContents.{HaveTexts, AreCommand}
use Rattle.mk_script.specs.WordReading.{named, words}
use Rattle.mk_script.specs.CommandReading.{Texts, worded, new_assign, new_rule, add_line, insert_lines, line_change, change_line, edit_with, edit_by, edit_after, edit_in, saying_after, saying_in}
use Rattle.mk_script.specs.declared.table.Word.{Word}
use Rattle.mk_script.specs.declared.table.Word.TheVariants as word
use Rattle.mk_script.proofs.on_commands.TableLemmas.{text_of, operator-named, separator-named}

-- fields that have texts are these
texts-are : (fields ts : Texts) → HaveTexts fields (texts ts) → fields ≡ ts
texts-are [] [] h = refl
texts-are [] (t ∷ ts) h = absurd h
texts-are (f ∷ fields) [] h = absurd h
texts-are (f ∷ fields) (t ∷ ts) h = ap (λ z. z ∷ fields) h.0 ∙ ap (λ zs. t ∷ zs) (texts-are fields ts h.1)

-- ---- an edit of one line

-- an edit by its word and the fields behind it, which may stand behind `nth` and a number
numbered-read : (nth : Option ℕ) (w : Word) (contents : List Content) (e : Edit) → named words (text_of w) ≡ Some w → ((fs : Texts) → edit_after w fs ≡ edit_with (One None) w fs)
    → ((fs : Texts) → HaveTexts fs contents → edit_with (One nth) w fs ≡ Some e) → (fields : Texts) → HaveTexts fields (after_nth nth (Text (text_of w) ∷ contents)) → edit_in fields ≡ Some e
numbered-read None w contents e is plain reads [] h = absurd h
numbered-read None w contents e is plain reads (f ∷ fs) h =
    ap (λ (t : List ℕ). edit_in (t ∷ fs)) h.0
    ∙ (ap (λ o. option_and_then (λ (p : Word × Texts). edit_after p.0 p.1) (option_map (λ (x : Word). (x, fs)) o)) is
    ∙ (plain fs ∙ reads fs h.1))
numbered-read (Some n) w contents e is plain reads [] h = absurd h
numbered-read (Some n) w contents e is plain reads (f ∷ []) h = absurd h.1
numbered-read (Some n) w contents e is plain reads (f ∷ d ∷ []) h = absurd h.1.1
numbered-read (Some n) w contents e is plain reads (f ∷ d ∷ g ∷ fs) h =
    ap (λ (t : List ℕ). edit_in (t ∷ d ∷ g ∷ fs)) h.0
    ∙ (ap (λ o. option_and_then (λ (k : ℕ). edit_by (One (Some k)) (g ∷ fs)) o) h.1.0
    ∙ (ap (λ (t : List ℕ). edit_by (One (Some n)) (t ∷ fs)) h.1.1.0
    ∙ (ap (λ o. option_and_then (λ (p : Word × Texts). edit_with (One (Some n)) p.0 p.1) (option_map (λ (x : Word). (x, fs)) o)) is
    ∙ reads fs h.1.1.1)))

text-read : (nth : Option ℕ) (w : Word) (ts : Texts) (e : Edit) → named words (text_of w) ≡ Some w → ((fs : Texts) → edit_after w fs ≡ edit_with (One None) w fs)
    → edit_with (One nth) w ts ≡ Some e → (fields : Texts) → HaveTexts fields (after_nth nth (texts (text_of w ∷ ts))) → edit_in fields ≡ Some e
text-read nth w ts e is plain reads = numbered-read nth w (texts ts) e is plain (λ fs h. ap (λ z. edit_with (One nth) w z) (texts-are fs ts h) ∙ reads)

-- the fields behind a word, of which the second is a number
number-read : (nth : Option ℕ) (w : Word) (t : List ℕ) (n : ℕ) (ts : Texts) (e : Edit) → ((d : List ℕ) → number d ≡ Some n → edit_with (One nth) w (t ∷ d ∷ ts) ≡ Some e)
    → (fs : Texts) → HaveTexts fs (Text t ∷ Number n ∷ texts ts) → edit_with (One nth) w fs ≡ Some e
number-read nth w t n ts e reads [] h = absurd h
number-read nth w t n ts e reads (f ∷ []) h = absurd h.1
number-read nth w t n ts e reads (f ∷ d ∷ fs) h =
    ap (λ (z : List ℕ). edit_with (One nth) w (z ∷ d ∷ fs)) h.0 ∙ (ap (λ (z : Texts). edit_with (One nth) w (t ∷ d ∷ z)) (texts-are fs ts h.1.1) ∙ reads d h.1.0)

-- a new line and its place
add_line-read : (place : Place) (line : Texts → Option NewLine) (a b c : List ℕ) (l : NewLine) → line (a ∷ b ∷ c ∷ []) ≡ Some l
    → add_line (nth_of_place place) line (place_words place ++ a ∷ b ∷ c ∷ []) ≡ Some (AddLine place l)
add_line-read Top line a b c l h = rw h refl
add_line-read Bottom line a b c l h = rw h refl
add_line-read (BeforeVar nth name) line a b c l h = rw h refl
add_line-read (AfterVar nth name) line a b c l h = rw h refl
add_line-read (AfterLastVar name) line a b c l h = rw h refl
add_line-read (BeforeRule nth target) line a b c l h = rw h refl
add_line-read (AfterRule nth target) line a b c l h = rw h refl

-- ---- each edit

change-read : (nth : Option ℕ) (name : List ℕ) (change : ValueChange) (fields : Texts) → HaveTexts fields (after_nth nth (texts (change_words name change)))
    → edit_in fields ≡ Some (ChangeValue (One nth) name change)
change-read nth name (Set value) = text-read nth word.Set (name ∷ value ∷ []) _ refl (λ fs. refl) refl
change-read nth name (SetIf old value) = text-read nth word.SetIf (name ∷ old ∷ value ∷ []) _ refl (λ fs. refl) refl
change-read nth name (Append value) = text-read nth word.Append (name ∷ value ∷ []) _ refl (λ fs. refl) refl
change-read nth name (Add x) = text-read nth word.Add (name ∷ x ∷ []) _ refl (λ fs. refl) refl
change-read nth name (Remove x) = text-read nth word.Drop (name ∷ x ∷ []) _ refl (λ fs. refl) refl

all-read : (name : List ℕ) (change : ValueChange) → edit_in (codes "all" ∷ change_words name change) ≡ Some (ChangeValue Every name change)
all-read name (Set value) = refl
all-read name (SetIf old value) = refl
all-read name (Append value) = refl
all-read name (Add x) = refl
all-read name (Remove x) = refl

line_change-read : (nth : Option ℕ) (name : List ℕ) (change : LineChange) (fields : Texts) → HaveTexts fields (after_nth nth (texts (line_change_words name change)))
    → edit_in fields ≡ Some (ChangeLine nth name change)
line_change-read nth name (Prepend value) = text-read nth word.Prepend (name ∷ value ∷ []) _ refl (λ fs. refl) refl
line_change-read nth name (ReplaceWord x value) = text-read nth word.Replace (name ∷ x ∷ value ∷ []) _ refl (λ fs. refl) refl
line_change-read nth name (InsertWord Before x new) = text-read nth word.AddBefore (name ∷ x ∷ new ∷ []) _ refl (λ fs. refl) refl
line_change-read nth name (InsertWord After x new) = text-read nth word.AddAfter (name ∷ x ∷ new ∷ []) _ refl (λ fs. refl) refl
line_change-read nth name (Substitute from to) = text-read nth word.Subst (name ∷ from ∷ to ∷ []) _ refl (λ fs. refl) refl
line_change-read nth name (SetOperator flavor) =
    text-read nth word.Operator (name ∷ operator_text flavor ∷ []) _ refl (λ fs. refl) (ap (λ o. option_map (λ c. ChangeLine nth name c) (option_map SetOperator o)) (operator-named flavor))

-- no text is an insert without a new line
none-read : (fields : Texts) → HaveTexts fields (exchange_fields (AtPlace Top) []) → ⊥
none-read [] h = h
none-read (f ∷ []) h = h.1
none-read (f ∷ g ∷ []) h = h.1.1
none-read (f ∷ g ∷ b ∷ fields) h = block-some b h.1.1.0

all_lines-read : (name : List ℕ) (change : LineChange) (fields : Texts) → HaveTexts fields (each_fields (ChangeEach name change)) → edit_in fields ≡ Some (EachLine (ChangeEach name change))
all_lines-read name (Prepend value) fields h = ap edit_in (texts-are fields (codes "all" ∷ codes "prepend" ∷ name ∷ value ∷ []) h)
all_lines-read name (ReplaceWord x value) fields h = ap edit_in (texts-are fields (codes "all" ∷ codes "replace" ∷ name ∷ x ∷ value ∷ []) h)
all_lines-read name (InsertWord side x new) fields h = absurd (none-read fields h)
all_lines-read name (Substitute from to) fields h = ap edit_in (texts-are fields (codes "all" ∷ codes "subst" ∷ name ∷ from ∷ to ∷ []) h)
all_lines-read name (SetOperator flavor) fields h =
    ap edit_in (texts-are fields (codes "all" ∷ codes "operator" ∷ name ∷ operator_text flavor ∷ []) h)
    ∙ ap (λ o. option_map (λ c. EachLine (ChangeEach name c)) (option_map SetOperator o)) (operator-named flavor)

each-read : (e : EachEdit) (fields : Texts) → HaveTexts fields (each_fields e) → edit_in fields ≡ Some (EachLine e)
each-read (ChangeEach name change) fields h = all_lines-read name change fields h
each-read (SubstValues from to) fields h = ap edit_in (texts-are fields (codes "values-subst" ∷ from ∷ to ∷ []) h)
each-read (SubstRecipe nth target from to) fields h = text-read nth word.RecipeSubst (target ∷ from ∷ to ∷ []) _ refl (λ fs. refl) refl fields h
each-read (SubstRecipes from to) fields h = ap edit_in (texts-are fields (codes "recipes-subst" ∷ from ∷ to ∷ []) h)

-- ---- whole lines

-- texts, and a block behind them
texts-block : (fs ts : Texts) (new : List (List ℕ)) → HaveTexts fs (texts ts ++ Block new ∷ []) → (b : List ℕ) × (fs ≡ ts ++ b ∷ []) × (block_lines b ≡ new)
texts-block [] [] new h = absurd h
texts-block [] (t ∷ ts) new h = absurd h
texts-block (f ∷ []) [] new h = (f, refl, h.0)
texts-block (f ∷ g ∷ fs) [] new h = absurd h.1
texts-block (f ∷ fs) (t ∷ ts) new h = let others = texts-block fs ts new h.1 in (others.0, ap (λ z. z ∷ fs) h.0 ∙ ap (λ zs. t ∷ zs) others.1, others.2)

-- an insert at a site of texts, and at one with a block of its own
insert-read : (nth : Option ℕ) (site : Site) (ts : Texts) (new : List (List ℕ)) → ((b : List ℕ) → insert_lines nth (ts ++ b ∷ []) ≡ Some (ExchangeLines site (block_lines b)))
    → (fs : Texts) → HaveTexts fs (texts ts ++ Block new ∷ []) → insert_lines nth fs ≡ Some (ExchangeLines site new)
insert-read nth site ts new reads fs h =
    let b = texts-block fs ts new h in
    ap (λ zs. insert_lines nth zs) b.1 ∙ (reads b.0 ∙ ap (λ lines. Some (ExchangeLines site lines)) b.2)

beside-read : (nth : Option ℕ) (site : List (List ℕ) → Site) (t : List ℕ) (old new : List (List ℕ)) → ((o b : List ℕ) → insert_lines nth (t ∷ o ∷ b ∷ []) ≡ Some (ExchangeLines (site (block_lines o)) (block_lines b)))
    → (fs : Texts) → HaveTexts fs (Text t ∷ Block old ∷ Block new ∷ []) → insert_lines nth fs ≡ Some (ExchangeLines (site old) new)
beside-read nth site t old new reads [] h = absurd h
beside-read nth site t old new reads (f ∷ []) h = absurd h.1
beside-read nth site t old new reads (f ∷ o ∷ []) h = absurd h.1.1
beside-read nth site t old new reads (f ∷ o ∷ b ∷ []) h =
    ap (λ (z : List ℕ). insert_lines nth (z ∷ o ∷ b ∷ [])) h.0
    ∙ (reads o b ∙ (ap (λ lines. Some (ExchangeLines (site lines) (block_lines b))) h.1.0 ∙ ap (λ lines. Some (ExchangeLines (site old) lines)) h.1.1.0))
beside-read nth site t old new reads (f ∷ o ∷ b ∷ g ∷ fs) h = absurd h.1.1.1

replace-read : (nth : Option ℕ) (old new : List (List ℕ)) (fs : Texts) → HaveTexts fs (Block old ∷ Block new ∷ []) → edit_with (One nth) word.LineReplace fs ≡ Some (ExchangeLines (OfRun nth old) new)
replace-read nth old new [] h = absurd h
replace-read nth old new (o ∷ []) h = absurd h.1
replace-read nth old new (o ∷ b ∷ []) h = ap (λ lines. Some (ExchangeLines (OfRun nth lines) (block_lines b))) h.0 ∙ ap (λ lines. Some (ExchangeLines (OfRun nth old) lines)) h.1.0
replace-read nth old new (o ∷ b ∷ g ∷ fs) h = absurd h.1.1

remove-read : (nth : Option ℕ) (old : List (List ℕ)) (fs : Texts) → HaveTexts fs (Block old ∷ []) → edit_with (One nth) word.LineRemove fs ≡ Some (ExchangeLines (OfRun nth old) [])
remove-read nth old [] h = absurd h
remove-read nth old (o ∷ []) h = ap (λ lines. Some (ExchangeLines (OfRun nth lines) [])) h.0
remove-read nth old (o ∷ g ∷ fs) h = absurd h.1

rule_replace-read : (nth : Option ℕ) (target : List ℕ) (new : List (List ℕ)) (fs : Texts) → HaveTexts fs (Text target ∷ Block new ∷ []) → edit_with (One nth) word.RuleReplace fs ≡ Some (ExchangeLines (OfRuleRun nth target) new)
rule_replace-read nth target new [] h = absurd h
rule_replace-read nth target new (t ∷ []) h = absurd h.1
rule_replace-read nth target new (t ∷ b ∷ []) h = ap (λ (z : List ℕ). Some (ExchangeLines (OfRuleRun nth z) (block_lines b))) h.0 ∙ ap (λ lines. Some (ExchangeLines (OfRuleRun nth target) lines)) h.1.0
rule_replace-read nth target new (t ∷ b ∷ g ∷ fs) h = absurd h.1.1

exchange-read : (site : Site) (new : List (List ℕ)) (fields : Texts) → HaveTexts fields (exchange_fields site new) → edit_in fields ≡ Some (ExchangeLines site new)
exchange-read (AtPlace Top) new = numbered-read None word.Insert _ _ refl (λ fs. refl) (insert-read None (AtPlace Top) (place_words Top) new (λ b. refl))
exchange-read (AtPlace Bottom) new = numbered-read None word.Insert _ _ refl (λ fs. refl) (insert-read None (AtPlace Bottom) (place_words Bottom) new (λ b. refl))
exchange-read (AtPlace (BeforeVar nth name)) new =
    numbered-read nth word.Insert _ _ refl (λ fs. refl) (insert-read nth (AtPlace (BeforeVar nth name)) (place_words (BeforeVar nth name)) new (λ b. refl))
exchange-read (AtPlace (AfterVar nth name)) new =
    numbered-read nth word.Insert _ _ refl (λ fs. refl) (insert-read nth (AtPlace (AfterVar nth name)) (place_words (AfterVar nth name)) new (λ b. refl))
exchange-read (AtPlace (AfterLastVar name)) new =
    numbered-read None word.Insert _ _ refl (λ fs. refl) (insert-read None (AtPlace (AfterLastVar name)) (place_words (AfterLastVar name)) new (λ b. refl))
exchange-read (AtPlace (AfterRule nth target)) new =
    numbered-read nth word.Insert _ _ refl (λ fs. refl) (insert-read nth (AtPlace (AfterRule nth target)) (place_words (AfterRule nth target)) new (λ b. refl))
exchange-read (AtPlace (BeforeRule nth target)) new =
    numbered-read nth word.Insert _ _ refl (λ fs. refl) (insert-read nth (AtPlace (BeforeRule nth target)) (place_words (BeforeRule nth target)) new (λ b. refl))
exchange-read (BeforeRun nth old) new = numbered-read nth word.Insert _ _ refl (λ fs. refl) (beside-read nth (λ lines. BeforeRun nth lines) (codes "before-line") old new (λ o b. refl))
exchange-read (AfterRun nth old) new = numbered-read nth word.Insert _ _ refl (λ fs. refl) (beside-read nth (λ lines. AfterRun nth lines) (codes "after-line") old new (λ o b. refl))
exchange-read (OfRun nth old) [] = numbered-read nth word.LineRemove _ _ refl (λ fs. refl) (remove-read nth old)
exchange-read (OfRun nth old) (line ∷ lines) = numbered-read nth word.LineReplace _ _ refl (λ fs. refl) (replace-read nth old (line ∷ lines))
exchange-read (OfRuleRun nth target) [] = text-read nth word.RuleRemove (target ∷ []) _ refl (λ fs. refl) refl
exchange-read (OfRuleRun nth target) (line ∷ lines) = numbered-read nth word.RuleReplace _ _ refl (λ fs. refl) (rule_replace-read nth target (line ∷ lines))

-- ---- and each edit

pub edit-read : (fields : Texts) (e : Edit) → AreCommand fields (Apply e) → edit_in fields ≡ Some e
edit-read fields (ChangeValue (One nth) name change) h = change-read nth name change fields h
edit-read fields (ChangeValue Every name change) h = ap edit_in (texts-are fields (codes "all" ∷ change_words name change) h) ∙ all-read name change
edit-read fields (ChangeLine nth name change) h = line_change-read nth name change fields h
edit-read fields (AddLine place (NewAssign name flavor value)) h =
    text-read (nth_of_place place) word.Assign (place_words place ++ name ∷ operator_text flavor ∷ value ∷ []) _ refl (λ fs. refl)
    (add_line-read place new_assign name (operator_text flavor) value _ (ap (λ o. option_map (λ f. NewAssign name f value) o) (operator-named flavor))) fields h
edit-read fields (RemoveLines (OfAssign nth name)) h = text-read nth word.Unset (name ∷ []) _ refl (λ fs. refl) refl fields h
edit-read fields (SwitchLine CommentOut nth name) h = text-read nth word.CommentOut (name ∷ []) _ refl (λ fs. refl) refl fields h
edit-read fields (SwitchLine Uncomment nth name) h = text-read nth word.Uncomment (name ∷ []) _ refl (λ fs. refl) refl fields h
edit-read fields (AddLine place (NewRule targets colons prereqs)) h =
    text-read (nth_of_place place) word.Rule (place_words place ++ targets ∷ rule_separator_text colons ∷ prereqs ∷ []) _ refl (λ fs. refl)
    (add_line-read place new_rule targets (rule_separator_text colons) prereqs _ (ap (λ o. option_map (λ s. NewRule targets s prereqs) o) (separator-named colons))) fields h
edit-read fields (RemoveLines (OfRule nth target)) h = text-read nth word.Unrule (target ∷ []) _ refl (λ fs. refl) refl fields h
edit-read fields (ChangePrereqs nth target (AddPrereq false x)) h = text-read nth word.Depend (target ∷ x ∷ []) _ refl (λ fs. refl) refl fields h
edit-read fields (ChangePrereqs nth target (AddPrereq true x)) h = text-read nth word.DependOrder (target ∷ x ∷ []) _ refl (λ fs. refl) refl fields h
edit-read fields (ChangePrereqs nth target (RemovePrereq x)) h = text-read nth word.Undepend (target ∷ x ∷ []) _ refl (λ fs. refl) refl fields h
edit-read fields (ChangePrereqs nth target (ReplacePrereq old new)) h = text-read nth word.DependReplace (target ∷ old ∷ new ∷ []) _ refl (λ fs. refl) refl fields h
edit-read fields (AddRecipe nth target Last line) h = text-read nth word.Recipe (target ∷ line ∷ []) _ refl (λ fs. refl) refl fields h
edit-read fields (AddRecipe nth target (At n) line) h =
    numbered-read nth word.RecipeInsert (Text target ∷ Number n ∷ texts (line ∷ [])) _ refl (λ fs. refl)
    (number-read nth word.RecipeInsert target n (line ∷ []) _ (λ d k. rw k refl)) fields h
edit-read fields (SetRecipe nth target (ByNumber n) line) h =
    numbered-read nth word.RecipeSet (Text target ∷ Number n ∷ texts (line ∷ [])) _ refl (λ fs. refl)
    (number-read nth word.RecipeSet target n (line ∷ []) _ (λ d k. rw k refl)) fields h
edit-read fields (SetRecipe nth target (ByText old) line) h = text-read nth word.RecipeReplace (target ∷ old ∷ line ∷ []) _ refl (λ fs. refl) refl fields h
edit-read fields (RemoveLines (OfRecipe nth target (ByNumber n))) h =
    numbered-read nth word.RecipeDel (Text target ∷ Number n ∷ []) _ refl (λ fs. refl) (number-read nth word.RecipeDel target n [] _ (λ d k. rw k refl)) fields h
edit-read fields (RemoveLines (OfRecipe nth target (ByText old))) h = text-read nth word.RecipeRemove (target ∷ old ∷ []) _ refl (λ fs. refl) refl fields h
edit-read fields (RenameTarget old new) h = ap edit_in (texts-are fields (codes "rename" ∷ old ∷ new ∷ []) h)
edit-read fields (ExchangeLines site new) h = exchange-read site new fields h
edit-read fields (EachLine e) h = each-read e fields h

-- ---- each command

-- a word that is no change of a line makes none
none-changed : (nth : Option ℕ) (w : Word) (fs : Texts) (e : Edit) → ((ts : Texts) → line_change w ts ≡ None) → change_line nth w fs ≡ Some e → ⊥
none-changed nth w [] e none h = absurd (cc)
none-changed nth w (name ∷ fs) e none h =
    let made : change_line nth w (name ∷ fs) ≡ None = ap (λ o. option_map (λ c. ChangeLine nth name c) o) (none fs) in absurd (cc)

after-said : (w : Word) (fs : Texts) (e : Edit) → edit_after w fs ≡ Some e → saying_after w fs ≡ Some (Plain (Apply e))
after-said word.Try fs e h = absurd (none-changed None word.Try fs e (λ ts. refl) h)
after-said word.Or fs e h = absurd (none-changed None word.Or fs e (λ ts. refl) h)
after-said word.Undo fs e h = absurd (none-changed None word.Undo fs e (λ ts. refl) h)
after-said word.Redo fs e h = absurd (none-changed None word.Redo fs e (λ ts. refl) h)
after-said word.Begin fs e h = absurd (none-changed None word.Begin fs e (λ ts. refl) h)
after-said word.End fs e h = absurd (none-changed None word.End fs e (λ ts. refl) h)
after-said word.Cancel fs e h = absurd (none-changed None word.Cancel fs e (λ ts. refl) h)
after-said w fs e h = ap (λ o. option_map Plain (option_map Apply o)) h

edit-said : (fields : Texts) (e : Edit) → edit_in fields ≡ Some e → saying_in fields ≡ Some (Plain (Apply e))
edit-said fields e h = go (worded fields) h
  where
    go : (o : Option (Word × Texts)) → option_and_then (λ (p : Word × Texts). edit_after p.0 p.1) o ≡ Some e → option_and_then (λ (p : Word × Texts). saying_after p.0 p.1) o ≡ Some (Plain (Apply e))
    go None k = absurd (cc)
    go (Some p) k = after-said p.0 p.1 e k

pub command-read : (fields : Texts) (c : Command Edit) → AreCommand fields c → saying_in fields ≡ Some (Plain c)
command-read fields (Apply e) h = edit-said fields e (edit-read fields e h)
command-read fields Undo h = ap saying_in (texts-are fields (codes "undo" ∷ []) h)
command-read fields Redo h = ap saying_in (texts-are fields (codes "redo" ∷ []) h)
command-read fields Begin h = ap saying_in (texts-are fields (codes "begin" ∷ []) h)
command-read fields End h = ap saying_in (texts-are fields (codes "end" ∷ []) h)
command-read fields Cancel h = ap saying_in (texts-are fields (codes "cancel" ∷ []) h)

-- ---- no command has more than eight fields

nth-few : (nth : Option ℕ) (contents : List Content) → length contents ≤ 6 → length (after_nth nth contents) ≤ 8
nth-few None contents h = omega (arith, h)
nth-few (Some n) contents h = omega (arith, h)

change-few : (name : List ℕ) (change : ValueChange) → length (texts (change_words name change)) ≤ 4
change-few name (Set value) = omega arith
change-few name (SetIf old value) = omega arith
change-few name (Append value) = omega arith
change-few name (Add x) = omega arith
change-few name (Remove x) = omega arith

line_change-few : (name : List ℕ) (change : LineChange) → length (texts (line_change_words name change)) ≤ 4
line_change-few name (Prepend value) = omega arith
line_change-few name (ReplaceWord x value) = omega arith
line_change-few name (InsertWord Before x new) = omega arith
line_change-few name (InsertWord After x new) = omega arith
line_change-few name (Substitute from to) = omega arith
line_change-few name (SetOperator flavor) = omega arith

place-few : (place : Place) (x a b c : List ℕ) → length (texts (x ∷ (place_words place ++ a ∷ b ∷ c ∷ []))) ≤ 6
place-few Top x a b c = omega arith
place-few Bottom x a b c = omega arith
place-few (BeforeVar nth name) x a b c = omega arith
place-few (AfterVar nth name) x a b c = omega arith
place-few (AfterLastVar name) x a b c = omega arith
place-few (BeforeRule nth target) x a b c = omega arith
place-few (AfterRule nth target) x a b c = omega arith

exchange-few : (site : Site) (new : List (List ℕ)) → length (exchange_fields site new) ≤ 8
exchange-few (AtPlace Top) new = omega arith
exchange-few (AtPlace Bottom) new = omega arith
exchange-few (AtPlace (BeforeVar nth name)) new = nth-few nth _ (omega arith)
exchange-few (AtPlace (AfterVar nth name)) new = nth-few nth _ (omega arith)
exchange-few (AtPlace (AfterLastVar name)) new = omega arith
exchange-few (AtPlace (BeforeRule nth target)) new = nth-few nth _ (omega arith)
exchange-few (AtPlace (AfterRule nth target)) new = nth-few nth _ (omega arith)
exchange-few (BeforeRun nth old) new = nth-few nth _ (omega arith)
exchange-few (AfterRun nth old) new = nth-few nth _ (omega arith)
exchange-few (OfRun nth old) [] = nth-few nth _ (omega arith)
exchange-few (OfRun nth old) (line ∷ lines) = nth-few nth _ (omega arith)
exchange-few (OfRuleRun nth target) [] = nth-few nth _ (omega arith)
exchange-few (OfRuleRun nth target) (line ∷ lines) = nth-few nth _ (omega arith)

each-few : (e : EachEdit) → length (each_fields e) ≤ 8
each-few (ChangeEach name (Prepend value)) = omega arith
each-few (ChangeEach name (ReplaceWord x value)) = omega arith
each-few (ChangeEach name (InsertWord side x new)) = omega arith
each-few (ChangeEach name (Substitute from to)) = omega arith
each-few (ChangeEach name (SetOperator flavor)) = omega arith
each-few (SubstValues from to) = omega arith
each-few (SubstRecipe nth target from to) = nth-few nth _ (omega arith)
each-few (SubstRecipes from to) = omega arith

pub few : (c : Command Edit) → length (command_fields c) ≤ 8
few (Apply (ChangeValue (One nth) name change)) = let k = change-few name change in nth-few nth _ (omega (arith, k))
few (Apply (ChangeValue Every name change)) = let k = change-few name change in omega (arith, k)
few (Apply (ChangeLine nth name change)) = let k = line_change-few name change in nth-few nth _ (omega (arith, k))
few (Apply (AddLine place (NewAssign name flavor value))) = nth-few (nth_of_place place) _ (place-few place (codes "assign") name (operator_text flavor) value)
few (Apply (AddLine place (NewRule targets colons prereqs))) = nth-few (nth_of_place place) _ (place-few place (codes "rule") targets (rule_separator_text colons) prereqs)
few (Apply (RemoveLines (OfAssign nth name))) = nth-few nth _ (omega arith)
few (Apply (RemoveLines (OfRule nth target))) = nth-few nth _ (omega arith)
few (Apply (RemoveLines (OfRecipe nth target (ByNumber n)))) = nth-few nth _ (omega arith)
few (Apply (RemoveLines (OfRecipe nth target (ByText old)))) = nth-few nth _ (omega arith)
few (Apply (ChangePrereqs nth target (AddPrereq order x))) = nth-few nth _ (omega arith)
few (Apply (ChangePrereqs nth target (RemovePrereq x))) = nth-few nth _ (omega arith)
few (Apply (ChangePrereqs nth target (ReplacePrereq old new))) = nth-few nth _ (omega arith)
few (Apply (SwitchLine CommentOut nth name)) = nth-few nth _ (omega arith)
few (Apply (SwitchLine Uncomment nth name)) = nth-few nth _ (omega arith)
few (Apply (AddRecipe nth target Last line)) = nth-few nth _ (omega arith)
few (Apply (AddRecipe nth target (At n) line)) = nth-few nth _ (omega arith)
few (Apply (SetRecipe nth target (ByNumber n) line)) = nth-few nth _ (omega arith)
few (Apply (SetRecipe nth target (ByText old) line)) = nth-few nth _ (omega arith)
few (Apply (RenameTarget old new)) = omega arith
few (Apply (ExchangeLines site new)) = exchange-few site new
few (Apply (EachLine e)) = each-few e
few Undo = omega arith
few Redo = omega arith
few Begin = omega arith
few End = omega arith
few Cancel = omega arith
