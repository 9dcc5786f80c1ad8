-- A line that has the old word as a target holds a word that a rename replaces.
use Rattle.std.proofs.Common.{◌≡◌, refl, sym, ap, ◌∙◌, subst, ℕ, Bool, true, false, List, [], ◌∷◌, map, length, ◌<◌, ◌≤◌, arith}
use Rattle.std.specs.List.{list_any}
use Rattle.std.specs.Prelude.{◌||◌, if◌then◌else◌}
use Rattle.std.specs.Str.{bytes_eq}
use Rattle.std.proofs.lemmas.Bool.{false≢true, ltb-true, or_left}
use Rattle.std.proofs.lemmas.List.Folds.{list_any-append}
use Rattle.std.proofs.lemmas.Slice.Eq.{bytes_eq-Decides}
use Rattle.mk_lines.specs.Lists.{concat}
use Rattle.mk_lines.specs.Cells.{Cell, joined_byte}
use Rattle.mk_lines.specs.Pieces.{Keep, Replace}
use Rattle.mk_lines.specs.Words.{Token, Gap, Word, token_words, tokens}
use Rattle.mk_class.specs.Classes.{Class}
use Rattle.mk_class.specs.ClassTable.{class_of}
use Rattle.mk_class.specs.ClassedLines.{ClassedLine}
use Rattle.mk_class.specs.Texts.{is_one_of, unit_text}
use Rattle.mk_tree.specs.LocatedLines.{LocatedLine, located_line}
use Rattle.mk_edit_language.specs.Addresses.{targets_of}
use Rattle.mk_edit_language.specs.WordPieces.{is_replaced, is_word_of, renamed_pieces, renamed_tokens, renamed_words}
use Rattle.mk_edit_parts.specs.LocatedParts.{IsClassed, is_target_located}
use Rattle.mk_edit_parts.specs.RenamedRanges.{renamed_ranges}
use Rattle.mk_edit_parts.specs.declared.tally.Tally.{Tally}
use Rattle.mk_edit_parts.proofs.on_finding.PartLemmas.{target-located}
use Rattle.mk_edit.specs.RenameTargetPatches.{holds_word, tally_of}
use Rattle.mk_edit.proofs.on_renaming.LinesRenamed.{holds-renamed}

-- texts that differ do so either way round
differ-turned : (s t : List ℕ) → bytes_eq s t ≡ false → bytes_eq t s ≡ false
differ-turned s t h = go (bytes_eq t s) refl
  where
    go : (b : Bool) → bytes_eq t s ≡ b → b ≡ false
    go true e = absurd (false≢true (sym h ∙ (bytes_eq-Decides s t).1 (sym ((bytes_eq-Decides t s).0 e))))
    go false e = refl

module _ (o n : List ℕ) where
  -- where the old word is one of some words, a piece of them is replaced
  words-held : (ts : List (Token Cell)) → is_one_of o (map (map joined_byte) (token_words ts)) ≡ true → list_any is_replaced (renamed_tokens o n ts) ≡ true
  words-held [] h = h
  words-held (Gap u ∷ ts) h = words-held ts h
  words-held (Word w ∷ ts) h = go (is_word_of o w) refl (words-held ts)
    where
      go : (b : Bool) → is_word_of o w ≡ b → (is_one_of o (map (map joined_byte) (token_words ts)) ≡ true → list_any is_replaced (renamed_tokens o n ts) ≡ true)
          → list_any is_replaced ((if b then Replace (concat w) n else Keep (concat w)) ∷ renamed_tokens o n ts) ≡ true
      go true e k = refl
      go false e k =
          let other : bytes_eq o (unit_text joined_byte w) ≡ false = differ-turned (unit_text joined_byte w) o e in
          k (ap (λ z. z || is_one_of o (map (map joined_byte) (token_words ts))) (sym other) ∙ h)

  -- where the old word is a target of a line, a piece of the line is replaced
  class-held : (k : Class Cell) → is_one_of o (targets_of k) ≡ true → list_any is_replaced (renamed_pieces o n k) ≡ true
  class-held (Class.Header h) e = list_any-append is_replaced (renamed_words o n h.targets) _ ∙ or_left _ _ (words-held (tokens joined_byte h.targets) e)
  class-held (Class.TargetAssign a) e = words-held (tokens joined_byte a.targets) e
  class-held Class.Endef e = absurd (cc)
  class-held (Class.Body d) e = absurd (cc)
  class-held Class.Recipe e = absurd (cc)
  class-held Class.Opaque e = absurd (cc)
  class-held Class.Blank e = absurd (cc)
  class-held Class.Comment e = absurd (cc)
  class-held (Class.Assign a p) e = absurd (cc)
  class-held (Class.DefineHead p) e = absurd (cc)
  class-held Class.If e = absurd (cc)
  class-held Class.Else e = absurd (cc)
  class-held Class.Endif e = absurd (cc)
  class-held Class.Directive e = absurd (cc)
  class-held Class.Rough e = absurd (cc)

-- a line that has the old word as a target holds the word
target-held : (o : List ℕ) (l : LocatedLine) → IsClassed l → is_target_located o l ≡ true → holds_word o l ≡ true
target-held o l h e =
    let d : ClassedLine = record { bytes = l.bytes; class = class_of h.context l.bytes } in
    let same : located_line d ≡ l = ap (λ k. record { bytes = l.bytes; class = k }) (sym h.class_is) in
    let held = class-held o o d.class (sym (target-located o h.context d refl) ∙ (ap (is_target_located o) same ∙ e)) in
    subst (λ z. holds_word o z ≡ true) same (holds-renamed h.context d o o refl ∙ held)

-- so a line in which no such word is counted does not have it as a target
pub target-absent : (o : List ℕ) (l : LocatedLine) (t : Tally) → IsClassed l → t ≡ tally_of o l → t.words ≤ 0 → is_target_located o l ≡ false
target-absent o l t h e none = go (is_target_located o l) refl
  where
    go : (b : Bool) → is_target_located o l ≡ b → b ≡ false
    go true i =
        let held : 0 < length (renamed_ranges o l) = ltb-true 0 (length (renamed_ranges o l)) (target-held o l h i) in
        absurd (omega (arith, held, none, ap (λ (z : Tally). z.words) e))
    go false i = refl
