-- The text of a block has the lines of the block, and these are some: without a line no command has a block.
use Rattle.std.proofs.Common.{◌≡◌, refl, sym, ap, ◌∙◌, ℕ, List, [], ◌∷◌, ◌++◌, Bool, true, false, codes}
use Rattle.std.specs.Prelude.{◌==◌, Option, Some, None}
use Rattle.std.proofs.lemmas.Bool.{eqb-true}
use Rattle.mk_edit_language.specs.Edits.{Site, AtPlace, BeforeRun, AfterRun, OfRun, OfRuleRun, InsertWord, ChangeEach, Edit, ExchangeLines, EachLine}
use Rattle.mk_edit_language.specs.LineRuns.{before_texts, block_lines}
use Rattle.mk_edit_language.proofs.on_line_runs.BlockTexts.{block-some}
use Rattle.mk_history.specs.Machine.{Apply}
use Rattle.mk_script.specs.Fields.{Field}
use Rattle.mk_script.specs.Blocks.{block_text}
use Rattle.mk_script.specs.CommandTable.{Content, Text, Number, Block, texts, after_nth, place_words, nth_of_place, HaveContents, IsCommand}
use Rattle.mk_script.specs.WrittenEdits.{has_no_command}

-- a byte before the text of some lines
text-before : (n : Bool) (b : ℕ) (ls : List (List ℕ)) → b == 10 ≡ n → (ls ≡ [] → ⊥) → block_text (before_texts n b ls) ≡ b ∷ block_text ls
text-before n b [] e some = absurd (some refl)
text-before true b (l ∷ ls) e some = ap (λ z. z ∷ block_text (l ∷ ls)) (sym (eqb-true b 10 e))
text-before false b (l ∷ []) e some = refl
text-before false b (l ∷ k ∷ ls) e some = refl

pub block-text : (t : List ℕ) → block_text (block_lines t) ≡ t
block-text [] = refl
block-text (b ∷ t) = text-before (b == 10) b (block_lines t) refl (block-some t) ∙ ap (λ z. b ∷ z) (block-text t)

-- an edit that has a block has lines to put in
pub some_lines : (site : Site) (t : List ℕ) → has_no_command (ExchangeLines site (block_lines t)) ≡ false
some_lines site t = go site (block_lines t) (block-some t)
  where
    go : (site : Site) (ls : List (List ℕ)) → (ls ≡ [] → ⊥) → has_no_command (ExchangeLines site ls) ≡ false
    go site [] some = absurd (some refl)
    go (AtPlace place) (l ∷ ls) some = refl
    go (BeforeRun nth old) (l ∷ ls) some = refl
    go (AfterRun nth old) (l ∷ ls) some = refl
    go (OfRun nth old) (l ∷ ls) some = refl
    go (OfRuleRun nth target) (l ∷ ls) some = refl

-- no field has no lines
never-had : (contents : List Content) (fields : List Field) (below : List (List ℕ)) → HaveContents fields below (contents ++ Block [] ∷ []) → ⊥
never-had [] [] below h = h
never-had [] (f ∷ fields) below (first, others, whole, (t, is, none), have) = block-some t none
never-had (c ∷ contents) [] below h = h
never-had (c ∷ contents) (f ∷ fields) below (first, others, whole, here, have) = never-had contents fields others have

never-inserted : (nth : Option ℕ) (site : List Content) (fields : List Field) (below : List (List ℕ)) → HaveContents fields below (after_nth nth (Text (codes "insert") ∷ (site ++ Block [] ∷ []))) → ⊥
never-inserted None site fields below h = never-had (Text (codes "insert") ∷ site) fields below h
never-inserted (Some n) site fields below h = never-had (Text (codes "nth") ∷ Number n ∷ Text (codes "insert") ∷ site) fields below h

-- no command is an edit that lacks its block, or puts words beside others in each value
pub never-said : (e : Edit) → has_no_command e ≡ true → (fields : List Field) (below : List (List ℕ)) → IsCommand fields below (Apply e) → ⊥
never-said (ExchangeLines (AtPlace place) []) h fields below is = never-inserted (nth_of_place place) (texts (place_words place)) fields below is
never-said (ExchangeLines (BeforeRun nth old) []) h fields below is = never-inserted nth (Text (codes "before-line") ∷ Block old ∷ []) fields below is
never-said (ExchangeLines (AfterRun nth old) []) h fields below is = never-inserted nth (Text (codes "after-line") ∷ Block old ∷ []) fields below is
never-said (EachLine (ChangeEach name (InsertWord side word new))) h fields below is = never-inserted None (Text (codes "top") ∷ []) fields below is
never-said e h fields below is = absurd (cc)
