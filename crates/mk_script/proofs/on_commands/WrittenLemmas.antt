-- What texts are read as is a command that has these texts.
use Rattle.std.proofs.Common.{◌≡◌, ℕ, ◌-◌, true, false, List, [], ◌∷◌, ◌++◌, length, refl, sym, ap, ◌∙◌, subst, codes}
use Rattle.std.specs.Prelude.{Option, Some, None, option_map, option_and_then}
use Rattle.std.proofs.lemmas.List.{take-append-drop}
use Rattle.mk_class.specs.declared.assignment.Flavor.{Flavor}
use Rattle.mk_class.specs.OperatorTexts.{operator_text}
use Rattle.mk_edit_language.specs.declared.edit.RuleSeparator.{RuleSeparator}
use Rattle.mk_edit_language.specs.Edits.{Place, Top, Bottom, BeforeVar, AfterVar, AfterLastVar, BeforeRule, AfterRule, Site, AtPlace, BeforeRun, AfterRun, OfRun, OfRuleRun, NewLine, NewAssign, NewRule, Which, One, Every, ValueChange, Set, SetIf, Append, Add, Remove, LineChange, Prepend, ReplaceWord, InsertWord, Substitute, SetOperator, ChangeEach, SubstValues, SubstRecipe, SubstRecipes, AddPrereq, RemovePrereq, ReplacePrereq, ByNumber, ByText, Last, At, OfAssign, OfRule, OfRecipe, CommentOut, Uncomment, Edit, ChangeValue, ChangeLine, ChangePrereqs, AddLine, AddRecipe, SetRecipe, RemoveLines, RenameTarget, ExchangeLines, SwitchLine, EachLine}
use Rattle.mk_edit_language.specs.declared.edit.Side.{Side}
use Rattle.mk_edit_language.specs.declared.edit.Side.TheVariants.{Before, After}
use Rattle.mk_edit_language.specs.LineRuns.{block_lines}
use Rattle.mk_edit_language.specs.NewLines.{rule_separator_text}
use Rattle.mk_edit_language.proofs.on_line_runs.BlockTexts.{block-some}
use Rattle.mk_history.specs.Machine.{Command, Apply, Undo, Redo, Begin, End, Cancel}
use Rattle.mk_script.specs.Numbers.{number}
use Rattle.mk_script.specs.CommandTable.{Content, Text, Number, Block, texts, after_nth, place_words, nth_of_place, change_words, line_change_words, exchange_fields, command_fields}
use Rattle.mk_script.proofs.on_commands.TextContents.{HaveTexts, AreCommand}
use Rattle.mk_script.specs.WordReading.{named, words, places, operators, separators}
use Rattle.mk_script.specs.CommandReading.{Texts, front, one, two, three, numbered, worded, plain_place, place_with, place_in, site_with, site_in, before_last, last_fields, new_assign, new_rule, insert_lines, line_change, change_line, change_each, edit_with, edit_by, edit_after, edit_in, alone, command_after}
use Rattle.mk_script.specs.declared.table.Word.{Word}
use Rattle.mk_script.specs.declared.table.Word.TheVariants as word
use Rattle.mk_script.specs.declared.word.PlaceWord.{PlaceWord}
use Rattle.mk_script.specs.declared.word.PlaceWord.TheVariants as spot
use Rattle.mk_script.proofs.on_commands.TableLemmas.{text_of, place_text, named-word, named-place, named-operator, named-separator, mapped, chained}

-- ---- so many fields

one-is : (fields : Texts) (a : List ℕ) → one fields ≡ Some a → fields ≡ a ∷ []
one-is [] a h = absurd (cc)
one-is (x ∷ []) a h = let same : x ≡ a = cc in ap (λ z. z ∷ []) same
one-is (x ∷ y ∷ fields) a h = absurd (cc)

two-is : (fields : Texts) (p : List ℕ × List ℕ) → two fields ≡ Some p → fields ≡ p.0 ∷ p.1 ∷ []
two-is [] p h = absurd (cc)
two-is (x ∷ []) p h = absurd (cc)
two-is (x ∷ y ∷ []) p h = let same : ◌≡◌ {A = List ℕ × List ℕ} (x, y) p = cc in ap (λ (q : List ℕ × List ℕ). q.0 ∷ q.1 ∷ []) same
two-is (x ∷ y ∷ z ∷ fields) p h = absurd (cc)

three-is : (fields : Texts) (p : List ℕ × List ℕ × List ℕ) → three fields ≡ Some p → fields ≡ p.0 ∷ p.1 ∷ p.2 ∷ []
three-is [] p h = absurd (cc)
three-is (x ∷ []) p h = absurd (cc)
three-is (x ∷ y ∷ []) p h = absurd (cc)
three-is (x ∷ y ∷ z ∷ []) p h =
    let same : ◌≡◌ {A = List ℕ × List ℕ × List ℕ} (x, y, z) p = cc in ap (λ (q : List ℕ × List ℕ × List ℕ). q.0 ∷ q.1 ∷ q.2 ∷ []) same
three-is (x ∷ y ∷ z ∷ u ∷ fields) p h = absurd (cc)

numbered-is : (fields : Texts) (p : List ℕ × ℕ × List ℕ) → numbered fields ≡ Some p → (d : List ℕ) × (fields ≡ p.0 ∷ d ∷ p.2 ∷ []) × (number d ≡ Some p.1)
numbered-is fields p h =
    let c = chained (λ (q : List ℕ × List ℕ × List ℕ). option_map (λ (n : ℕ). (q.0, n, q.2)) (number q.1)) (three fields) p h in
    let m = mapped (λ (n : ℕ). (c.0.0, n, c.0.2)) (number c.0.1) p c.2 in (
      c.0.1,
      three-is fields c.0 c.1 ∙ ap (λ (q : List ℕ × ℕ × List ℕ). q.0 ∷ c.0.1 ∷ q.2 ∷ []) m.2,
      m.1 ∙ ap (λ (q : List ℕ × ℕ × List ℕ). Some q.1) m.2,
    )

-- ---- places

plain-place : (w : PlaceWord) (f : List ℕ) (fs : Texts) (place : Place) → f ≡ place_text w → plain_place w fs ≡ Some place → (None ≡ nth_of_place place) × (f ∷ fs ≡ place_words place)
plain-place spot.Top f [] place is h = let same : Top ≡ place = cc in (ap nth_of_place same, ap (λ z. z ∷ []) is ∙ ap place_words same)
plain-place spot.Top f (g ∷ fs) place is h = absurd (cc)
plain-place spot.Bottom f [] place is h = let same : Bottom ≡ place = cc in (ap nth_of_place same, ap (λ z. z ∷ []) is ∙ ap place_words same)
plain-place spot.Bottom f (g ∷ fs) place is h = absurd (cc)
plain-place spot.AfterLastVar f [] place is h = absurd (cc)
plain-place spot.AfterLastVar f (g ∷ []) place is h = let same : AfterLastVar g ≡ place = cc in (ap nth_of_place same, ap (λ z. z ∷ g ∷ []) is ∙ ap place_words same)
plain-place spot.AfterLastVar f (g ∷ k ∷ fs) place is h = absurd (cc)
plain-place w f fs place is h = absurd (cc)

place-with : (nth : Option ℕ) (w : PlaceWord) (f : List ℕ) (fs : Texts) (place : Place) → f ≡ place_text w → place_with nth w fs ≡ Some place
    → (nth ≡ nth_of_place place) × (f ∷ fs ≡ place_words place)
place-with nth spot.BeforeVar f fs place is h =
    let m = mapped (λ (name : List ℕ). BeforeVar nth name) (one fs) place h in
    (ap nth_of_place m.2, ap (λ z. z ∷ fs) is ∙ (ap (λ zs. codes "before-var" ∷ zs) (one-is fs m.0 m.1) ∙ ap place_words m.2))
place-with nth spot.AfterVar f fs place is h =
    let m = mapped (λ (name : List ℕ). AfterVar nth name) (one fs) place h in
    (ap nth_of_place m.2, ap (λ z. z ∷ fs) is ∙ (ap (λ zs. codes "after-var" ∷ zs) (one-is fs m.0 m.1) ∙ ap place_words m.2))
place-with nth spot.BeforeRule f fs place is h =
    let m = mapped (λ (target : List ℕ). BeforeRule nth target) (one fs) place h in
    (ap nth_of_place m.2, ap (λ z. z ∷ fs) is ∙ (ap (λ zs. codes "before-rule" ∷ zs) (one-is fs m.0 m.1) ∙ ap place_words m.2))
place-with nth spot.AfterRule f fs place is h =
    let m = mapped (λ (target : List ℕ). AfterRule nth target) (one fs) place h in
    (ap nth_of_place m.2, ap (λ z. z ∷ fs) is ∙ (ap (λ zs. codes "after-rule" ∷ zs) (one-is fs m.0 m.1) ∙ ap place_words m.2))
place-with None w f fs place is h = plain-place w f fs place is h
place-with (Some n) w f fs place is h = absurd (cc)

place-is : (nth : Option ℕ) (fields : Texts) (place : Place) → place_in nth fields ≡ Some place → (nth ≡ nth_of_place place) × (fields ≡ place_words place)
place-is nth [] place h = absurd (cc)
place-is nth (f ∷ fs) place h =
    let c = chained (λ (w : PlaceWord). place_with nth w fs) (named places f) place h in
    place-with nth c.0 f fs place (named-place f c.0 c.1) c.2

-- ---- an edit by its word

-- what stands before the words of an edit
abbrev behind : Which → List Content → List Content
behind (One nth) contents = after_nth nth contents
behind Every contents = Text (codes "all") ∷ contents

-- The fields after a word have contents that with it are the command of the edit.
record IsWrittenEdit (which : Which) (w : Word) (fields : Texts) (e : Edit) : Type 0 where
  contents : List Content
  have : HaveTexts fields contents
  command : command_fields (Apply e) ≡ behind which (Text (text_of w) ∷ contents)

texts-have : (ts : Texts) → HaveTexts ts (texts ts)
texts-have [] = tt
texts-have (t ∷ ts) = (refl, texts-have ts)

text-written : (which : Which) (w : Word) (fields ts : Texts) (e d : Edit) → fields ≡ ts → d ≡ e → command_fields (Apply d) ≡ behind which (Text (text_of w) ∷ texts ts)
    → IsWrittenEdit which w fields e
text-written which w fields ts e d is same command = record {
  contents = texts ts;
  have = subst (λ z. HaveTexts z (texts ts)) (sym is) (texts-have ts);
  command = ap (λ x. command_fields (Apply x)) (sym same) ∙ command;
}

one-written : (which : Which) (w : Word) (fields : Texts) (e : Edit) (make : List ℕ → Edit) → option_map make (one fields) ≡ Some e
    → ((a : List ℕ) → command_fields (Apply (make a)) ≡ behind which (Text (text_of w) ∷ texts (a ∷ []))) → IsWrittenEdit which w fields e
one-written which w fields e make h is =
    let m = mapped make (one fields) e h in text-written which w fields (m.0 ∷ []) e (make m.0) (one-is fields m.0 m.1) m.2 (is m.0)

two-written : (which : Which) (w : Word) (fields : Texts) (e : Edit) (make : List ℕ → List ℕ → Edit) → option_map (λ (p : List ℕ × List ℕ). make p.0 p.1) (two fields) ≡ Some e
    → ((a b : List ℕ) → command_fields (Apply (make a b)) ≡ behind which (Text (text_of w) ∷ texts (a ∷ b ∷ []))) → IsWrittenEdit which w fields e
two-written which w fields e make h is =
    let m = mapped (λ (p : List ℕ × List ℕ). make p.0 p.1) (two fields) e h in
    text-written which w fields (m.0.0 ∷ m.0.1 ∷ []) e (make m.0.0 m.0.1) (two-is fields m.0 m.1) m.2 (is m.0.0 m.0.1)

three-written : (which : Which) (w : Word) (fields : Texts) (e : Edit) (make : List ℕ → List ℕ → List ℕ → Edit)
    → option_map (λ (p : List ℕ × List ℕ × List ℕ). make p.0 p.1 p.2) (three fields) ≡ Some e
    → ((a b c : List ℕ) → command_fields (Apply (make a b c)) ≡ behind which (Text (text_of w) ∷ texts (a ∷ b ∷ c ∷ []))) → IsWrittenEdit which w fields e
three-written which w fields e make h is =
    let m = mapped (λ (p : List ℕ × List ℕ × List ℕ). make p.0 p.1 p.2) (three fields) e h in
    text-written which w fields (m.0.0 ∷ m.0.1 ∷ m.0.2 ∷ []) e (make m.0.0 m.0.1 m.0.2) (three-is fields m.0 m.1) m.2 (is m.0.0 m.0.1 m.0.2)

numbered-written : (which : Which) (w : Word) (fields : Texts) (e : Edit) (make : List ℕ → ℕ → List ℕ → Edit)
    → option_map (λ (p : List ℕ × ℕ × List ℕ). make p.0 p.1 p.2) (numbered fields) ≡ Some e
    → ((a : List ℕ) (n : ℕ) (c : List ℕ) → command_fields (Apply (make a n c)) ≡ behind which (Text (text_of w) ∷ Text a ∷ Number n ∷ texts (c ∷ []))) → IsWrittenEdit which w fields e
numbered-written which w fields e make h is =
    let m = mapped (λ (p : List ℕ × ℕ × List ℕ). make p.0 p.1 p.2) (numbered fields) e h in
    let k = numbered-is fields m.0 m.1 in
    let contents : List Content = Text m.0.0 ∷ Number m.0.1 ∷ texts (m.0.2 ∷ []) in
    record {
      contents = contents;
      have = subst (λ z. HaveTexts z contents) (sym k.1) (refl, (k.2, (refl, tt)));
      command = ap (λ x. command_fields (Apply x)) (sym m.2) ∙ is m.0.0 m.0.1 m.0.2;
    }

recipe_del-written : (nth : Option ℕ) (fields : Texts) (e : Edit) → edit_with (One nth) word.RecipeDel fields ≡ Some e → IsWrittenEdit (One nth) word.RecipeDel fields e
recipe_del-written nth fields e h =
    let c = chained (λ (p : List ℕ × List ℕ). option_map (λ (n : ℕ). RemoveLines (OfRecipe nth p.0 (ByNumber n))) (number p.1)) (two fields) e h in
    let m = mapped (λ (n : ℕ). RemoveLines (OfRecipe nth c.0.0 (ByNumber n))) (number c.0.1) e c.2 in
    let contents : List Content = Text c.0.0 ∷ Number m.0 ∷ [] in
    record {
      contents = contents;
      have = subst (λ z. HaveTexts z contents) (sym (two-is fields c.0 c.1)) (refl, (m.1, tt));
      command = ap (λ x. command_fields (Apply x)) (sym m.2);
    }

-- a new line behind its place
add_line-written : (nth : Option ℕ) (w : Word) (fields ts : Texts) (e : Edit) (l : NewLine) → last_fields 3 fields ≡ ts
    → option_map (λ p. AddLine p l) (place_in nth (before_last 3 fields)) ≡ Some e
    → ((p : Place) → command_fields (Apply (AddLine p l)) ≡ after_nth (nth_of_place p) (Text (text_of w) ∷ texts (place_words p ++ ts))) → IsWrittenEdit (One nth) w fields e
add_line-written nth w fields ts e l is h command =
    let m = mapped (λ (p : Place). AddLine p l) (place_in nth (before_last 3 fields)) e h in
    let p = place-is nth (before_last 3 fields) m.0 m.1 in
    let whole : fields ≡ place_words m.0 ++ ts =
    sym (take-append-drop (length fields - 3) fields) ∙ (ap (λ z. z ++ last_fields 3 fields) p.1 ∙ ap (λ z. place_words m.0 ++ z) is) in
    text-written (One nth) w fields (place_words m.0 ++ ts) e (AddLine m.0 l) whole m.2
    (command m.0 ∙ ap (λ n. after_nth n (Text (text_of w) ∷ texts (place_words m.0 ++ ts))) (sym p.0))

-- a change of the line of an assignment, behind its name
pair-is : (w : Word) (name : List ℕ) (ts : Texts) (c : LineChange) (make : List ℕ → List ℕ → LineChange) → option_map (λ (p : List ℕ × List ℕ). make p.0 p.1) (two ts) ≡ Some c
    → ((a b : List ℕ) → line_change_words name (make a b) ≡ text_of w ∷ name ∷ a ∷ b ∷ []) → line_change_words name c ≡ text_of w ∷ name ∷ ts
pair-is w name ts c make h is =
    let m = mapped (λ (p : List ℕ × List ℕ). make p.0 p.1) (two ts) c h in
    ap (λ d. line_change_words name d) (sym m.2) ∙ (is m.0.0 m.0.1 ∙ ap (λ zs. text_of w ∷ name ∷ zs) (sym (two-is ts m.0 m.1)))

line_change-is : (w : Word) (name : List ℕ) (ts : Texts) (c : LineChange) → line_change w ts ≡ Some c → line_change_words name c ≡ text_of w ∷ name ∷ ts
line_change-is word.Prepend name ts c h =
    let m = mapped Prepend (one ts) c h in ap (λ d. line_change_words name d) (sym m.2) ∙ ap (λ zs. codes "prepend" ∷ name ∷ zs) (sym (one-is ts m.0 m.1))
line_change-is word.Replace name ts c h = pair-is word.Replace name ts c ReplaceWord h (λ a b. refl)
line_change-is word.AddBefore name ts c h = pair-is word.AddBefore name ts c (λ a b. InsertWord Before a b) h (λ a b. refl)
line_change-is word.AddAfter name ts c h = pair-is word.AddAfter name ts c (λ a b. InsertWord After a b) h (λ a b. refl)
line_change-is word.Subst name ts c h = pair-is word.Subst name ts c Substitute h (λ a b. refl)
line_change-is word.Operator name ts c h =
    let t = chained (λ (t : List ℕ). option_map SetOperator (named operators t)) (one ts) c h in
    let f = mapped SetOperator (named operators t.0) c t.2 in
    ap (λ d. line_change_words name d) (sym f.2)
    ∙ (ap (λ z. codes "operator" ∷ name ∷ z ∷ []) (sym (named-operator t.0 f.0 f.1)) ∙ ap (λ zs. codes "operator" ∷ name ∷ zs) (sym (one-is ts t.0 t.1)))
line_change-is w name ts c h = absurd (cc)

change_line-written : (nth : Option ℕ) (w : Word) (fields : Texts) (e : Edit) → change_line nth w fields ≡ Some e → IsWrittenEdit (One nth) w fields e
change_line-written nth w [] e h = absurd (cc)
change_line-written nth w (name ∷ ts) e h =
    let m = mapped (λ (c : LineChange). ChangeLine nth name c) (line_change w ts) e h in
    text-written (One nth) w (name ∷ ts) (name ∷ ts) e (ChangeLine nth name m.0) refl m.2
    (ap (λ zs. after_nth nth (texts zs)) (line_change-is w name ts m.0 m.1))

-- no word goes beside others in each value
each-fields : (w : Word) (name : List ℕ) (ts : Texts) (c : LineChange) → (w ≡ word.AddBefore → ⊥) → (w ≡ word.AddAfter → ⊥) → line_change w ts ≡ Some c
    → command_fields (Apply (EachLine (ChangeEach name c))) ≡ texts (codes "all" ∷ line_change_words name c)
each-fields w name ts (Prepend value) before after h = refl
each-fields w name ts (ReplaceWord x value) before after h = refl
each-fields w name ts (Substitute from to) before after h = refl
each-fields w name ts (SetOperator flavor) before after h = refl
each-fields w name ts (InsertWord side x new) before after h = absurd (none-inserted w ts side x new before after h)
  where
    none : (o : Option (List ℕ)) (make : List ℕ → LineChange) (d : LineChange) → ((a : List ℕ) → make a ≡ d → ⊥) → option_map make o ≡ Some d → ⊥
    none o make d other k = let m = mapped make o d k in other m.0 m.2

    none-inserted : (w : Word) (ts : Texts) (side : Side) (x new : List ℕ) → (w ≡ word.AddBefore → ⊥) → (w ≡ word.AddAfter → ⊥) → line_change w ts ≡ Some (InsertWord side x new) → ⊥
    none-inserted word.AddBefore ts side x new before after k = before refl
    none-inserted word.AddAfter ts side x new before after k = after refl
    none-inserted word.Prepend ts side x new before after k = let m = mapped Prepend (one ts) (InsertWord side x new) k in let e = m.2 in absurd (cc)
    none-inserted word.Replace ts side x new before after k = let m = mapped (λ (p : List ℕ × List ℕ). ReplaceWord p.0 p.1) (two ts) (InsertWord side x new) k in let e = m.2 in absurd (cc)
    none-inserted word.Subst ts side x new before after k = let m = mapped (λ (p : List ℕ × List ℕ). Substitute p.0 p.1) (two ts) (InsertWord side x new) k in let e = m.2 in absurd (cc)
    none-inserted word.Operator ts side x new before after k =
        let t = chained (λ (t : List ℕ). option_map SetOperator (named operators t)) (one ts) (InsertWord side x new) k in
        let m = mapped SetOperator (named operators t.0) (InsertWord side x new) t.2 in let e = m.2 in absurd (cc)
    none-inserted w ts side x new before after k = absurd (cc)

each_line-written : (w : Word) (fields : Texts) (e : Edit) → (w ≡ word.AddBefore → ⊥) → (w ≡ word.AddAfter → ⊥)
    → option_and_then (λ (p : List ℕ × Texts). option_map (λ c. EachLine (ChangeEach p.0 c)) (line_change w p.1)) (front fields) ≡ Some e → IsWrittenEdit Every w fields e
each_line-written w [] e before after h = absurd (cc)
each_line-written w (name ∷ ts) e before after h =
    let m = mapped (λ (c : LineChange). EachLine (ChangeEach name c)) (line_change w ts) e h in
    text-written Every w (name ∷ ts) (name ∷ ts) e (EachLine (ChangeEach name m.0)) refl m.2
    (each-fields w name ts m.0 before after m.1 ∙ ap (λ zs. texts (codes "all" ∷ zs)) (line_change-is w name ts m.0 m.1))

change_each-written : (w : Word) (fields : Texts) (e : Edit) → change_each w fields ≡ Some e → IsWrittenEdit Every w fields e
change_each-written word.AddBefore fields e h = absurd (cc)
change_each-written word.AddAfter fields e h = absurd (cc)
change_each-written w fields e h = each_line-written w fields e (λ z. cc) (λ z. cc) h

-- whole lines behind their site
with-block : (fs : Texts) (contents : List Content) (b : List ℕ) → HaveTexts fs contents → HaveTexts (fs ++ b ∷ []) (contents ++ Block (block_lines b) ∷ [])
with-block [] [] b h = (refl, tt)
with-block [] (c ∷ contents) b h = absurd h
with-block (f ∷ fs) [] b h = absurd h
with-block (f ∷ fs) (c ∷ contents) b h = (h.0, with-block fs contents b h.1)

-- The fields have contents that are those of a site.
record IsWrittenSite (nth : Option ℕ) (fields : Texts) (site : Site) : Type 0 where
  contents : List Content
  have : HaveTexts fields contents
  fields_are : (new : List (List ℕ)) → exchange_fields site new ≡ after_nth nth (Text (codes "insert") ∷ (contents ++ Block new ∷ []))

-- a site that has a block of its own
beside-written : (nth : Option ℕ) (t f : List ℕ) (fs : Texts) (site : Site) (make : List (List ℕ) → Site) → f ≡ t → option_map (λ (old : List ℕ). make (block_lines old)) (one fs) ≡ Some site
    → ((old new : List (List ℕ)) → exchange_fields (make old) new ≡ after_nth nth (Text (codes "insert") ∷ Text t ∷ Block old ∷ Block new ∷ [])) → IsWrittenSite nth (f ∷ fs) site
beside-written nth t f fs site make is h are =
    let m = mapped (λ (old : List ℕ). make (block_lines old)) (one fs) site h in
    let contents : List Content = Text t ∷ Block (block_lines m.0) ∷ [] in
    record {
      contents = contents;
      have = (is, subst (λ z. HaveTexts z (Block (block_lines m.0) ∷ [])) (sym (one-is fs m.0 m.1)) (refl, tt));
      fields_are = λ new. ap (λ s. exchange_fields s new) (sym m.2) ∙ are (block_lines m.0) new;
    }

site-with : (nth : Option ℕ) (w : PlaceWord) (f : List ℕ) (fs : Texts) (site : Site) → f ≡ place_text w → site_with nth w fs ≡ Some site → IsWrittenSite nth (f ∷ fs) site
site-with nth spot.BeforeLine f fs site is h = beside-written nth (codes "before-line") f fs site (λ old. BeforeRun nth old) is h (λ old new. refl)
site-with nth spot.AfterLine f fs site is h = beside-written nth (codes "after-line") f fs site (λ old. AfterRun nth old) is h (λ old new. refl)
site-with nth w f fs site is h =
    let m = mapped AtPlace (place_with nth w fs) site h in
    let p = place-with nth w f fs m.0 is m.1 in
    record {
      contents = texts (place_words m.0);
      have = subst (λ z. HaveTexts z (texts (place_words m.0))) (sym p.1) (texts-have (place_words m.0));
      fields_are = λ new.
          ap (λ s. exchange_fields s new) (sym m.2) ∙ ap (λ n. after_nth n (Text (codes "insert") ∷ (texts (place_words m.0) ++ Block new ∷ []))) (sym p.0);
    }

site-is : (nth : Option ℕ) (fields : Texts) (site : Site) → site_in nth fields ≡ Some site → IsWrittenSite nth fields site
site-is nth [] site h = absurd (cc)
site-is nth (f ∷ fs) site h =
    let c = chained (λ (w : PlaceWord). site_with nth w fs) (named places f) site h in
    site-with nth c.0 f fs site (named-place f c.0 c.1) c.2

insert-written : (nth : Option ℕ) (fields : Texts) (e : Edit) → insert_lines nth fields ≡ Some e → IsWrittenEdit (One nth) word.Insert fields e
insert-written nth fields e h =
    let site = before_last 1 fields in
    let c = chained (λ (b : List ℕ). option_map (λ s. ExchangeLines s (block_lines b)) (site_in nth site)) (one (last_fields 1 fields)) e h in
    let m = mapped (λ (s : Site). ExchangeLines s (block_lines c.0)) (site_in nth site) e c.2 in
    let s = site-is nth site m.0 m.1 in
    let contents = s.contents ++ Block (block_lines c.0) ∷ [] in
    let whole : fields ≡ site ++ c.0 ∷ [] = sym (take-append-drop (length fields - 1) fields) ∙ ap (λ z. site ++ z) (one-is (last_fields 1 fields) c.0 c.1) in
    record {
      contents = contents;
      have = subst (λ z. HaveTexts z contents) (sym whole) (with-block site s.contents c.0 s.have);
      command = ap (λ x. command_fields (Apply x)) (sym m.2) ∙ s.fields_are (block_lines c.0);
    }

-- lines in the place of others, and lines that go
pub replace-fields : (nth : Option ℕ) (old new : List (List ℕ)) → (new ≡ [] → ⊥) → exchange_fields (OfRun nth old) new ≡ after_nth nth (Text (codes "line-replace") ∷ Block old ∷ Block new ∷ [])
replace-fields nth old [] some = absurd (some refl)
replace-fields nth old (line ∷ lines) some = refl

line_replace-written : (nth : Option ℕ) (fields : Texts) (e : Edit) → edit_with (One nth) word.LineReplace fields ≡ Some e → IsWrittenEdit (One nth) word.LineReplace fields e
line_replace-written nth fields e h =
    let m = mapped (λ (p : List ℕ × List ℕ). ExchangeLines (OfRun nth (block_lines p.0)) (block_lines p.1)) (two fields) e h in
    let contents : List Content = Block (block_lines m.0.0) ∷ Block (block_lines m.0.1) ∷ [] in
    record {
      contents = contents;
      have = subst (λ z. HaveTexts z contents) (sym (two-is fields m.0 m.1)) (refl, (refl, tt));
      command = ap (λ x. command_fields (Apply x)) (sym m.2) ∙ replace-fields nth (block_lines m.0.0) (block_lines m.0.1) (block-some m.0.1);
    }

line_remove-written : (nth : Option ℕ) (fields : Texts) (e : Edit) → edit_with (One nth) word.LineRemove fields ≡ Some e → IsWrittenEdit (One nth) word.LineRemove fields e
line_remove-written nth fields e h =
    let m = mapped (λ (old : List ℕ). ExchangeLines (OfRun nth (block_lines old)) []) (one fields) e h in
    let contents : List Content = Block (block_lines m.0) ∷ [] in
    record {
      contents = contents;
      have = subst (λ z. HaveTexts z contents) (sym (one-is fields m.0 m.1)) (refl, tt);
      command = ap (λ x. command_fields (Apply x)) (sym m.2);
    }

-- a rule in the place of another
pub rule-fields : (nth : Option ℕ) (target : List ℕ) (new : List (List ℕ)) → (new ≡ [] → ⊥) → exchange_fields (OfRuleRun nth target) new ≡ after_nth nth (Text (codes "rule-replace") ∷ Text target ∷ Block new ∷ [])
rule-fields nth target [] some = absurd (some refl)
rule-fields nth target (line ∷ lines) some = refl

rule_replace-written : (nth : Option ℕ) (fields : Texts) (e : Edit) → edit_with (One nth) word.RuleReplace fields ≡ Some e → IsWrittenEdit (One nth) word.RuleReplace fields e
rule_replace-written nth fields e h =
    let m = mapped (λ (p : List ℕ × List ℕ). ExchangeLines (OfRuleRun nth p.0) (block_lines p.1)) (two fields) e h in
    let contents : List Content = Text m.0.0 ∷ Block (block_lines m.0.1) ∷ [] in
    record {
      contents = contents;
      have = subst (λ z. HaveTexts z contents) (sym (two-is fields m.0 m.1)) (refl, (refl, tt));
      command = ap (λ x. command_fields (Apply x)) (sym m.2) ∙ rule-fields nth m.0.0 (block_lines m.0.1) (block-some m.0.1);
    }

assign-written : (nth : Option ℕ) (fields : Texts) (e : Edit) → edit_with (One nth) word.Assign fields ≡ Some e → IsWrittenEdit (One nth) word.Assign fields e
assign-written nth fields e h =
    let c = chained (λ (l : NewLine). option_map (λ p. AddLine p l) (place_in nth (before_last 3 fields))) (new_assign (last_fields 3 fields)) e h in
    let t = chained (λ (q : List ℕ × List ℕ × List ℕ). option_map (λ (f : Flavor). NewAssign q.0 f q.2) (named operators q.1)) (three (last_fields 3 fields)) c.0 c.1 in
    let f = mapped (λ (f : Flavor). NewAssign t.0.0 f t.0.2) (named operators t.0.1) c.0 t.2 in
    let is = three-is (last_fields 3 fields) t.0 t.1 ∙ ap (λ z. t.0.0 ∷ z ∷ t.0.2 ∷ []) (named-operator t.0.1 f.0 f.1) in
    add_line-written nth word.Assign fields (t.0.0 ∷ operator_text f.0 ∷ t.0.2 ∷ []) e (NewAssign t.0.0 f.0 t.0.2) is
    (subst (λ (l : NewLine). option_map (λ p. AddLine p l) (place_in nth (before_last 3 fields)) ≡ Some e) (sym f.2) c.2) (λ p. refl)

rule-written : (nth : Option ℕ) (fields : Texts) (e : Edit) → edit_with (One nth) word.Rule fields ≡ Some e → IsWrittenEdit (One nth) word.Rule fields e
rule-written nth fields e h =
    let c = chained (λ (l : NewLine). option_map (λ p. AddLine p l) (place_in nth (before_last 3 fields))) (new_rule (last_fields 3 fields)) e h in
    let t = chained (λ (q : List ℕ × List ℕ × List ℕ). option_map (λ (s : RuleSeparator). NewRule q.0 s q.2) (named separators q.1)) (three (last_fields 3 fields)) c.0 c.1 in
    let s = mapped (λ (s : RuleSeparator). NewRule t.0.0 s t.0.2) (named separators t.0.1) c.0 t.2 in
    let is = three-is (last_fields 3 fields) t.0 t.1 ∙ ap (λ z. t.0.0 ∷ z ∷ t.0.2 ∷ []) (named-separator t.0.1 s.0 s.1) in
    add_line-written nth word.Rule fields (t.0.0 ∷ rule_separator_text s.0 ∷ t.0.2 ∷ []) e (NewRule t.0.0 s.0 t.0.2) is
    (subst (λ (l : NewLine). option_map (λ p. AddLine p l) (place_in nth (before_last 3 fields)) ≡ Some e) (sym s.2) c.2) (λ p. refl)

change-fields : (which : Which) (name : List ℕ) (change : ValueChange) → command_fields (Apply (ChangeValue which name change)) ≡ behind which (texts (change_words name change))
change-fields (One nth) name change = refl
change-fields Every name change = refl

with-written : (which : Which) (w : Word) (fields : Texts) (e : Edit) → edit_with which w fields ≡ Some e → IsWrittenEdit which w fields e
with-written which word.Set fields e h = two-written which word.Set fields e (λ a b. ChangeValue which a (Set b)) h (λ a b. change-fields which a (Set b))
with-written which word.SetIf fields e h = three-written which word.SetIf fields e (λ a b c. ChangeValue which a (SetIf b c)) h (λ a b c. change-fields which a (SetIf b c))
with-written which word.Append fields e h = two-written which word.Append fields e (λ a b. ChangeValue which a (Append b)) h (λ a b. change-fields which a (Append b))
with-written which word.Add fields e h = two-written which word.Add fields e (λ a b. ChangeValue which a (Add b)) h (λ a b. change-fields which a (Add b))
with-written which word.Drop fields e h = two-written which word.Drop fields e (λ a b. ChangeValue which a (Remove b)) h (λ a b. change-fields which a (Remove b))
with-written (One nth) word.Unset fields e h = one-written (One nth) word.Unset fields e (λ a. RemoveLines (OfAssign nth a)) h (λ a. refl)
with-written (One nth) word.CommentOut fields e h = one-written (One nth) word.CommentOut fields e (λ a. SwitchLine CommentOut nth a) h (λ a. refl)
with-written (One nth) word.Uncomment fields e h = one-written (One nth) word.Uncomment fields e (λ a. SwitchLine Uncomment nth a) h (λ a. refl)
with-written (One nth) word.Assign fields e h = assign-written nth fields e h
with-written (One nth) word.Rule fields e h = rule-written nth fields e h
with-written (One nth) word.Unrule fields e h = one-written (One nth) word.Unrule fields e (λ a. RemoveLines (OfRule nth a)) h (λ a. refl)
with-written (One nth) word.Depend fields e h = two-written (One nth) word.Depend fields e (λ a b. ChangePrereqs nth a (AddPrereq false b)) h (λ a b. refl)
with-written (One nth) word.DependOrder fields e h = two-written (One nth) word.DependOrder fields e (λ a b. ChangePrereqs nth a (AddPrereq true b)) h (λ a b. refl)
with-written (One nth) word.Undepend fields e h = two-written (One nth) word.Undepend fields e (λ a b. ChangePrereqs nth a (RemovePrereq b)) h (λ a b. refl)
with-written (One nth) word.DependReplace fields e h = three-written (One nth) word.DependReplace fields e (λ a b c. ChangePrereqs nth a (ReplacePrereq b c)) h (λ a b c. refl)
with-written (One nth) word.Recipe fields e h = two-written (One nth) word.Recipe fields e (λ a b. AddRecipe nth a Last b) h (λ a b. refl)
with-written (One nth) word.RecipeInsert fields e h = numbered-written (One nth) word.RecipeInsert fields e (λ a n c. AddRecipe nth a (At n) c) h (λ a n c. refl)
with-written (One nth) word.RecipeSet fields e h = numbered-written (One nth) word.RecipeSet fields e (λ a n c. SetRecipe nth a (ByNumber n) c) h (λ a n c. refl)
with-written (One nth) word.RecipeDel fields e h = recipe_del-written nth fields e h
with-written (One nth) word.RecipeReplace fields e h = three-written (One nth) word.RecipeReplace fields e (λ a b c. SetRecipe nth a (ByText b) c) h (λ a b c. refl)
with-written (One nth) word.RecipeRemove fields e h = two-written (One nth) word.RecipeRemove fields e (λ a b. RemoveLines (OfRecipe nth a (ByText b))) h (λ a b. refl)
with-written (One nth) word.Insert fields e h = insert-written nth fields e h
with-written (One nth) word.LineReplace fields e h = line_replace-written nth fields e h
with-written (One nth) word.LineRemove fields e h = line_remove-written nth fields e h
with-written (One nth) word.RuleReplace fields e h = rule_replace-written nth fields e h
with-written (One nth) word.RuleRemove fields e h = one-written (One nth) word.RuleRemove fields e (λ a. ExchangeLines (OfRuleRun nth a) []) h (λ a. refl)
with-written (One nth) word.RecipeSubst fields e h = three-written (One nth) word.RecipeSubst fields e (λ a b c. EachLine (SubstRecipe nth a b c)) h (λ a b c. refl)
with-written (One None) word.Rename fields e h = two-written (One None) word.Rename fields e (λ a b. RenameTarget a b) h (λ a b. refl)
with-written (One (Some n)) word.Rename fields e h = absurd (cc)
with-written (One None) word.ValuesSubst fields e h = two-written (One None) word.ValuesSubst fields e (λ a b. EachLine (SubstValues a b)) h (λ a b. refl)
with-written (One (Some n)) word.ValuesSubst fields e h = absurd (cc)
with-written (One None) word.RecipesSubst fields e h = two-written (One None) word.RecipesSubst fields e (λ a b. EachLine (SubstRecipes a b)) h (λ a b. refl)
with-written (One (Some n)) word.RecipesSubst fields e h = absurd (cc)
with-written (One nth) w fields e h = change_line-written nth w fields e h
with-written Every w fields e h = change_each-written w fields e h

-- ---- commands

pub worded-is : (fields : Texts) (p : Word × Texts) → worded fields ≡ Some p → fields ≡ text_of p.0 ∷ p.1
worded-is [] p h = absurd (cc)
worded-is (f ∷ fs) p h =
    let m = mapped (λ (w : Word). (w, fs)) (named words f) p h in
    ap (λ z. z ∷ fs) (named-word f m.0 m.1) ∙ ap (λ (q : Word × Texts). text_of q.0 ∷ q.1) m.2

by-written : (which : Which) (fields : Texts) (e : Edit) → edit_by which fields ≡ Some e
    → (contents : List Content) × HaveTexts fields contents × (command_fields (Apply e) ≡ behind which contents)
by-written which fields e h =
    let c = chained (λ (p : Word × Texts). edit_with which p.0 p.1) (worded fields) e h in
    let w = with-written which c.0.0 c.0.1 e c.2 in
    let contents : List Content = Text (text_of c.0.0) ∷ w.contents in
    (contents, subst (λ z. HaveTexts z contents) (sym (worded-is fields c.0 c.1)) (refl, w.have), w.command)

after-written : (w : Word) (fs : Texts) (e : Edit) → edit_after w fs ≡ Some e → AreCommand (text_of w ∷ fs) (Apply e)
after-written word.Nth [] e h = absurd (cc)
after-written word.Nth (d ∷ fs) e h =
    let c = chained (λ (n : ℕ). edit_by (One (Some n)) fs) (number d) e h in
    let b = by-written (One (Some c.0)) fs e c.2 in
    subst (λ z. HaveTexts (codes "nth" ∷ d ∷ fs) z) (sym b.2) (refl, (c.1, b.1))
after-written word.All fs e h =
    let b = by-written Every fs e h in
    subst (λ z. HaveTexts (codes "all" ∷ fs) z) (sym b.2) (refl, b.1)
after-written w fs e h =
    let x = with-written (One None) w fs e h in
    subst (λ z. HaveTexts (text_of w ∷ fs) z) (sym x.command) (refl, x.have)

pub in-written : (fields : Texts) (e : Edit) → edit_in fields ≡ Some e → AreCommand fields (Apply e)
in-written fields e h =
    let c = chained (λ (p : Word × Texts). edit_after p.0 p.1) (worded fields) e h in
    subst (λ z. AreCommand z (Apply e)) (sym (worded-is fields c.0 c.1)) (after-written c.0.0 c.0.1 e c.2)

-- a call, behind which nothing stands
call-written : (w : Word) (d c : Command Edit) (fs : Texts) → alone d fs ≡ Some c → AreCommand (text_of w ∷ []) d → AreCommand (text_of w ∷ fs) c
call-written w d c [] h is = let same : d ≡ c = cc in subst (λ z. AreCommand (text_of w ∷ []) z) same is
call-written w d c (f ∷ fs) h is = absurd (cc)

pub command-written : (w : Word) (fs : Texts) (c : Command Edit) → command_after w fs ≡ Some c → AreCommand (text_of w ∷ fs) c
command-written word.Undo fs c h = call-written word.Undo Undo c fs h (refl, tt)
command-written word.Redo fs c h = call-written word.Redo Redo c fs h (refl, tt)
command-written word.Begin fs c h = call-written word.Begin Begin c fs h (refl, tt)
command-written word.End fs c h = call-written word.End End c fs h (refl, tt)
command-written word.Cancel fs c h = call-written word.Cancel Cancel c fs h (refl, tt)
command-written w fs c h =
    let m = mapped Apply (edit_after w fs) c h in
    subst (λ z. AreCommand (text_of w ∷ fs) z) m.2 (after-written w fs m.0 m.1)
