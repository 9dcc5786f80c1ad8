-- What a rename does to the lines of a makefile, in bytes.
use Rattle.std.proofs.Common.{◌≡◌, refl, ℕ, List, [], ◌∷◌, Bool, true, false, subst}
use Rattle.std.specs.Prelude.{Ok, nat_lt, if◌then◌else◌, All, ◌<◌}
use Rattle.std.specs.List.{AllZip, list_any}
use Rattle.std.proofs.lemmas.Slice.Eq.{bytes_eq-Decides}
use Rattle.mk_lines.specs.Lists.{concat}
use Rattle.mk_lines.specs.LogicalLines.{logical_lines}
use Rattle.mk_lines.specs.Cells.{Cell, joined_byte}
use Rattle.mk_lines.specs.Words.{Token, Gap, Word, tokens}
use Rattle.mk_lines.specs.Pieces.{Replacement, Keep, Replace}
use Rattle.mk_class.specs.Texts.{unit_text}
use Rattle.mk_class.specs.Classes.{Class}
use Rattle.mk_class.specs.Classes.Class.{Endef, Body, Recipe, Opaque, Blank, Comment, Assign, DefineHead, If, Else, Endif, Directive, TargetAssign, Rough, Header}
use Rattle.mk_class.specs.Contexts.{Context, start, context_after}
use Rattle.mk_class.specs.ClassedLines.{ClassedLine, classed_lines}
use Rattle.mk_tree.specs.LineTexts.{bytes_of}
use Rattle.mk_tree.proofs.on_documents.LinesInText.{bytes_of-classed}
use Rattle.mk_edit_language.specs.Edits.{RenameTarget}
use Rattle.mk_edit_language.specs.WordPieces.{kept, is_word_of, renamed_tokens, renamed_words, renamed_pieces}
use Rattle.mk_edit_language.specs.LinesInPlace.{AreInPlace, IsLineRenamed}
use Rattle.mk_edit_language.specs.Refusals.{spans, text_after}
use Rattle.mk_edit_language.proofs.on_edits.KeptByRenameTargetLemmas.{rename_target-keeps}
use Rattle.mk_session.specs.Statement.{Replaces}
use Rattle.mk_session.proofs.on_statement.CellTexts.{all-solid, solid-word}
use Rattle.mk_session.proofs.on_statement.ReplacedTexts.{AreReplaced, replaced-append, pieces-replace}

module _ (o n : List ℕ) (plain : list_any (λ b. nat_lt b 33) o ≡ false) where
  tokens-replaced : (ts : List (Token Cell)) → AreReplaced o n (renamed_tokens o n ts)
  tokens-replaced [] = tt
  tokens-replaced (Gap u ∷ ts) = tokens-replaced ts
  tokens-replaced (Word w ∷ ts) = go (is_word_of o w) refl (tokens-replaced ts)
    where
      go : (x : Bool) → is_word_of o w ≡ x → AreReplaced o n (renamed_tokens o n ts) → AreReplaced o n ((if x then Replace (concat w) n else Keep (concat w)) ∷ renamed_tokens o n ts)
      go true e more = (solid-word (concat w) o ((bytes_eq-Decides (unit_text joined_byte w) o).0 e) plain, refl, more)
      go false e more = more

  words-replaced : (us : List (List Cell)) → AreReplaced o n (renamed_words o n us)
  words-replaced us = tokens-replaced (tokens joined_byte us)

  class-replaced : (k : Class Cell) → AreReplaced o n (renamed_pieces o n k)
  class-replaced (Header h) =
      replaced-append o n (renamed_words o n h.targets) _ (words-replaced h.targets)
      (replaced-append o n (renamed_words o n h.normal) _ (words-replaced h.normal)
      (replaced-append o n (renamed_words o n h.order_only) (kept h.tail) (words-replaced h.order_only) tt))
  class-replaced (TargetAssign a) = words-replaced a.targets
  class-replaced Endef = tt
  class-replaced (Body d) = tt
  class-replaced Recipe = tt
  class-replaced Opaque = tt
  class-replaced Blank = tt
  class-replaced Comment = tt
  class-replaced (Assign a p) = tt
  class-replaced (DefineHead p) = tt
  class-replaced If = tt
  class-replaced Else = tt
  class-replaced Endif = tt
  class-replaced Directive = tt
  class-replaced Rough = tt

  lines-rename : (c : Context) (ls ms : List ClassedLine) → AreInPlace (IsLineRenamed o n) c ls ms → AllZip (Replaces o n) (bytes_of ls) (bytes_of ms)
  lines-rename c [] [] h = tt
  lines-rename c [] (m ∷ ms) h = absurd h
  lines-rename c (l ∷ ls) [] h = absurd h
  lines-rename c (l ∷ ls) (m ∷ ms) h =
      (pieces-replace o n (renamed_pieces o n l.class) h.0.rest l.bytes m.bytes (class-replaced l.class) h.0.old_line h.0.new_line, lines-rename (context_after c l.class) ls ms h.1)

pub rename-stated : (o n t : List ℕ) (rs : List Replacement) → spans t (RenameTarget o n) ≡ Ok rs
    → All (λ b. 32 < b) o → AllZip (Replaces o n) (logical_lines t) (logical_lines (text_after t (RenameTarget o n)))
rename-stated o n t rs h plain =
    let u = text_after t (RenameTarget o n) in
    let K = rename_target-keeps o n t rs h in
    subst (λ z. AllZip (Replaces o n) z (logical_lines u)) (bytes_of-classed start (logical_lines t))
    (subst (λ z. AllZip (Replaces o n) (bytes_of (classed_lines t)) z) (bytes_of-classed start (logical_lines u)) (lines-rename o n (all-solid o plain) start (classed_lines t) (classed_lines u) K.in_place))
