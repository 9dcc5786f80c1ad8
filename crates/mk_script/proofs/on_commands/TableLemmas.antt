-- Words that a table has.
use Rattle.std.proofs.Common.{◌≡◌, ℕ, Bool, true, false, List, [], ◌∷◌, refl, sym, ap, ◌∙◌, subst, cond, inl, inr, codes}
use Rattle.std.specs.Prelude.{not, Option, Some, None, is_some, option_map, option_and_then}
use Rattle.std.specs.List.{list_all, list_any}
use Rattle.std.specs.Str.{bytes_eq}
use Rattle.std.proofs.lemmas.Bool.{and_parts}
use Rattle.std.proofs.lemmas.Slice.Eq.{bytes_eq-Decides}
use Rattle.mk_class.specs.declared.assignment.Flavor.{Flavor}
use Rattle.mk_class.specs.declared.assignment.Flavor.TheVariants.{Recursive, Simple, PosixSimple, Immediate, Conditional, Append, Shell}
use Rattle.mk_class.specs.OperatorTexts.{operator_text}
use Rattle.mk_edit_language.specs.NewLines.{rule_separator_text}
use Rattle.mk_edit_language.specs.declared.edit.RuleSeparator.{RuleSeparator}
use Rattle.mk_edit_language.specs.declared.edit.RuleSeparator.TheVariants.{Single, Double}
use Rattle.mk_script.specs.SeenFields.{IsWrittenPlain, is_of_no_word}
use Rattle.mk_script.specs.WordReading.{named, words, places, operators, separators}
use Rattle.mk_script.specs.CommandReading.{Texts, front, worded}
use Rattle.mk_script.specs.declared.table.Word.{Word}
use Rattle.mk_script.specs.declared.table.Word.TheVariants as word
use Rattle.mk_script.specs.declared.word.PlaceWord.{PlaceWord}
use Rattle.mk_script.specs.declared.word.PlaceWord.TheVariants as place

-- what is named passes a test that each entry of the table passes
named-passes : {K : Type 0} (p : K → List ℕ → Bool) (table : List (K × List ℕ)) → list_all (λ (e : K × List ℕ). p e.0 e.1) table ≡ true
    → (text : List ℕ) (k : K) → named table text ≡ Some k → p k text ≡ true
named-passes p [] all text k h = absurd (cc)
named-passes {K} p (entry ∷ table) all text k h = go (bytes_eq text entry.1) refl h (named-passes p table parts.1 text k)
  where
    parts : (p entry.0 entry.1 ≡ true) × (list_all (λ (e : K × List ℕ). p e.0 e.1) table ≡ true)
    parts = and_parts (p entry.0 entry.1) (list_all (λ (e : K × List ℕ). p e.0 e.1) table) all

    go : (c : Bool) → bytes_eq text entry.1 ≡ c → cond c (Some entry.0) (named table text) ≡ Some k → (named table text ≡ Some k → p k text ≡ true) → p k text ≡ true
    go true e m ih =
        let same : entry.1 ≡ text = sym ((bytes_eq-Decides text entry.1).0 e) in
        let key : entry.0 ≡ k = cc in
        subst (λ t. p k t ≡ true) same (subst (λ x. p x entry.1 ≡ true) key parts.0)
    go false e m ih = ih m

-- ---- a field and what stands in the line

none-special : {K : Type 0} (table : List (K × List ℕ)) → list_all (λ (e : K × List ℕ). not (list_any is_of_no_word e.1)) table ≡ true
    → (text : List ℕ) → list_any is_of_no_word text ≡ true → named table text ≡ None
none-special {K} table plain text special = go (named table text) refl
  where
    go : (o : Option K) → named table text ≡ o → named table text ≡ None
    go None e = e
    go (Some k) e =
        let passes = named-passes (λ (x : K) (t : List ℕ). not (list_any is_of_no_word t)) table plain text k e in
        absurd (let no : not (list_any is_of_no_word text) ≡ false = rw special refl in cc)

-- a table of words without quotes, backslashes and line feeds has the same under both
pub named-written : {K : Type 0} (table : List (K × List ℕ)) → list_all (λ (e : K × List ℕ). not (list_any is_of_no_word e.1)) table ≡ true
    → (field written : List ℕ) → IsWrittenPlain field written → named table written ≡ named table field
named-written table plain field written (inl same) = ap (λ t. named table t) same
named-written table plain field written (inr (f, w)) = none-special table plain written w ∙ sym (none-special table plain field f)

-- the word of a field, by what stands in the line
pub worded-by : (fields others : Texts) (text written : List ℕ) (o : Option Word) → front fields ≡ Some (text, others) → IsWrittenPlain text written → o ≡ named words written
    → worded fields ≡ option_map (λ (w : Word). (w, others)) o
worded-by fields others text written o h plain is =
    ap (λ x. option_and_then (λ (p : List ℕ × Texts). option_map (λ (w : Word). (w, p.1)) (named words p.0)) x) h
    ∙ ap (λ x. option_map (λ (w : Word). (w, others)) x) (sym (is ∙ named-written words refl text written plain))

-- ---- the texts of words

abbrev pub text_of : Word → List ℕ
text_of word.Set = codes "set"
text_of word.SetIf = codes "set-if"
text_of word.Append = codes "append"
text_of word.Add = codes "add"
text_of word.Drop = codes "drop"
text_of word.Prepend = codes "prepend"
text_of word.Replace = codes "replace"
text_of word.AddBefore = codes "add-before"
text_of word.AddAfter = codes "add-after"
text_of word.Subst = codes "subst"
text_of word.Operator = codes "operator"
text_of word.ValuesSubst = codes "values-subst"
text_of word.Unset = codes "unset"
text_of word.CommentOut = codes "comment-out"
text_of word.Uncomment = codes "uncomment"
text_of word.Assign = codes "assign"
text_of word.Rule = codes "rule"
text_of word.Unrule = codes "unrule"
text_of word.Depend = codes "depend"
text_of word.DependOrder = codes "depend-order"
text_of word.Undepend = codes "undepend"
text_of word.DependReplace = codes "depend-replace"
text_of word.Recipe = codes "recipe"
text_of word.RecipeInsert = codes "recipe-insert"
text_of word.RecipeSet = codes "recipe-set"
text_of word.RecipeDel = codes "recipe-del"
text_of word.RecipeReplace = codes "recipe-replace"
text_of word.RecipeRemove = codes "recipe-remove"
text_of word.RecipeSubst = codes "recipe-subst"
text_of word.RecipesSubst = codes "recipes-subst"
text_of word.Insert = codes "insert"
text_of word.LineReplace = codes "line-replace"
text_of word.LineRemove = codes "line-remove"
text_of word.RuleReplace = codes "rule-replace"
text_of word.RuleRemove = codes "rule-remove"
text_of word.Rename = codes "rename"
text_of word.Nth = codes "nth"
text_of word.All = codes "all"
text_of word.Undo = codes "undo"
text_of word.Redo = codes "redo"
text_of word.Begin = codes "begin"
text_of word.End = codes "end"
text_of word.Cancel = codes "cancel"
text_of word.Try = codes "try"
text_of word.Or = codes "or"

abbrev pub place_text : PlaceWord → List ℕ
place_text place.Top = codes "top"
place_text place.Bottom = codes "bottom"
place_text place.BeforeVar = codes "before-var"
place_text place.AfterVar = codes "after-var"
place_text place.AfterLastVar = codes "after-last-var"
place_text place.BeforeRule = codes "before-rule"
place_text place.AfterRule = codes "after-rule"
place_text place.BeforeLine = codes "before-line"
place_text place.AfterLine = codes "after-line"

-- a text under which a table has something whose text is known
named-text : {K : Type 0} (texts : K → List ℕ) (table : List (K × List ℕ)) → list_all (λ (e : K × List ℕ). bytes_eq e.1 (texts e.0)) table ≡ true
    → (text : List ℕ) (k : K) → named table text ≡ Some k → text ≡ texts k
named-text texts table all text k h = (bytes_eq-Decides text (texts k)).0 (named-passes (λ x t. bytes_eq t (texts x)) table all text k h)

pub named-word : (text : List ℕ) (w : Word) → named words text ≡ Some w → text ≡ text_of w
named-word text w h = named-text text_of words refl text w h

pub named-place : (text : List ℕ) (w : PlaceWord) → named places text ≡ Some w → text ≡ place_text w
named-place text w h = named-text place_text places refl text w h

pub named-operator : (text : List ℕ) (f : Flavor) → named operators text ≡ Some f → text ≡ operator_text f
named-operator text f h = named-text operator_text operators refl text f h

pub named-separator : (text : List ℕ) (s : RuleSeparator) → named separators text ≡ Some s → text ≡ rule_separator_text s
named-separator text s h = named-text rule_separator_text separators refl text s h

-- ---- and their names

pub operator-named : (f : Flavor) → named operators (operator_text f) ≡ Some f
operator-named Recursive = refl
operator-named Simple = refl
operator-named PosixSimple = refl
operator-named Immediate = refl
operator-named Conditional = refl
operator-named Append = refl
operator-named Shell = refl

pub separator-named : (s : RuleSeparator) → named separators (rule_separator_text s) ≡ Some s
separator-named Single = refl
separator-named Double = refl

-- ---- what is made of something that may not stand there

pub is_some_mapped : {A B : Type 0} (make : A → B) (o : Option A) → is_some (option_map make o) ≡ is_some o
is_some_mapped make None = refl
is_some_mapped make (Some x) = refl

pub mapped : {A B : Type 0} (make : A → B) (o : Option A) (y : B) → option_map make o ≡ Some y → (x : A) × (o ≡ Some x) × (make x ≡ y)
mapped make None y h = absurd (cc)
mapped make (Some x) y h = let same : make x ≡ y = cc in (x, refl, same)

pub chained : {A B : Type 0} (make : A → Option B) (o : Option A) (y : B) → option_and_then make o ≡ Some y → (x : A) × (o ≡ Some x) × (make x ≡ Some y)
chained make None y h = absurd (cc)
chained make (Some x) y h = (x, refl, h)
