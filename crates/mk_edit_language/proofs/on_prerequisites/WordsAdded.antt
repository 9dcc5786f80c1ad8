-- A word put after the last word of some units: the words are the old ones and then the new one, and the cells join.
use Rattle.std.proofs.Common.{◌≡◌, refl, sym, ap, ◌∙◌, subst, ℕ, List, [], ◌∷◌, ◌++◌, map, Bool, true, false, append_assoc}
use Rattle.std.proofs.lemmas.List.{append-nil, map-append}
use Rattle.std.specs.Prelude.{◌⊎◌}
use mathlib.Core.Logic.{inl, inr}
use Rattle.mk_lines.specs.Lists.{concat, trim_end, trailing, Each, LastFails}
use Rattle.mk_lines.proofs.on_lists.ListLemmas.{concat-append, trim_end-trailing, trailing-each, trim_end-last_fails}
use Rattle.mk_lines.specs.Cells.{Cell, Byte, joined_byte}
use Rattle.mk_lines.proofs.on_cells.LineCells.{AreLineCells, AreLineCells-left, bytes-are_line_cells}
use Rattle.mk_lines.specs.Units.{units}
use Rattle.mk_lines.proofs.on_units.UnitLemmas.{concat-units}
use Rattle.mk_lines.specs.CellFaults.{has_stray}
use Rattle.mk_lines.specs.Words.{Token, Gap, Word, tokens, before_tokens, token_words, is_word_first, is_gap}
use Rattle.mk_lines.proofs.on_units.TokenLemmas.{tokens-word}
use Rattle.mk_class.specs.Texts.{word_texts}
use Rattle.mk_class.specs.Symbols.{is_colon, is_bar}
use Rattle.mk_class.proofs.on_assignments.ValueLemmas.{clean-no_line_end, clean-no_stray}
use Rattle.mk_edit_language.proofs.on_lines.HeadUnits.{AllAre, AllAre-append, AllAre-left, IsHeadUnit, IsSolid, BeginsSolid-before, EndsSolid, EndsSolid-after, line_cells-after_solid, line_cells-before_solid, head_unit-solid, first_units-are_head_units}
use Rattle.mk_edit_language.proofs.on_lines.LineTails.{EndsAs, EndsEmpty, EndsAs-after}
use Rattle.mk_edit_language.proofs.on_lines.HeadWords.{gap-ends, word-solid}
use Rattle.mk_edit_language.proofs.on_lines.HeaderParts.{IsPartUnit, part-head, parts-of, no-each}
use Rattle.mk_edit_language.proofs.on_prerequisites.NewWords.{IsNewWord, cell_units, cell_units-text, rule_units-are}

-- ---- gaps

-- units that are all gaps
abbrev pub AreGapUnits : List (List Cell) → Type 0
AreGapUnits us = Each (is_gap joined_byte) us

-- units that are all gaps end as they did
pub gap_units-end : (us : List (List Cell)) → AreGapUnits us → EndsAs (concat us) (concat us)
gap_units-end [] h = EndsEmpty refl
gap_units-end (u ∷ us) h = gap-ends u (concat us) h.0

gap_units-words : (us : List (List Cell)) → AreGapUnits us → (token_words (tokens joined_byte us) ≡ []) × (is_word_first (tokens joined_byte us) ≡ false)
gap_units-words [] h = (refl, refl)
gap_units-words (u ∷ us) h = rw h.0 ((gap_units-words us h.1).0, refl)

token_words-append : (a b : List (Token Cell)) → token_words (a ++ b) ≡ token_words a ++ token_words b
token_words-append [] b = refl
token_words-append (Gap u ∷ a) b = token_words-append a b
token_words-append (Word w ∷ a) b = ap (λ z. concat w ∷ z) (token_words-append a b)

before-append : (c : Bool) (u : List Cell) (a : List (Token Cell)) (g : List Cell) (b : List (Token Cell)) → before_tokens c u (a ++ Gap g ∷ b) ≡ before_tokens c u a ++ Gap g ∷ b
before-append true u a g b = refl
before-append false u [] g b = refl
before-append false u (Gap x ∷ a) g b = refl
before-append false u (Word w ∷ a) g b = refl

-- the tokens before a gap, and those after it
tokens-apart : (a : List (List Cell)) (g : List Cell) (b : List (List Cell)) → is_gap joined_byte g ≡ true → tokens joined_byte (a ++ g ∷ b) ≡ tokens joined_byte a ++ Gap g ∷ tokens joined_byte b
tokens-apart [] g b h = ap (λ z. before_tokens z g (tokens joined_byte b)) h
tokens-apart (u ∷ a) g b h = ap (before_tokens (is_gap joined_byte u) u) (tokens-apart a g b h) ∙ before-append (is_gap joined_byte u) u (tokens joined_byte a) g (tokens joined_byte b)

-- the words before a gap and those after it
words-apart : (a : List (List Cell)) (g : List Cell) (b : List (List Cell)) → is_gap joined_byte g ≡ true → word_texts joined_byte (a ++ g ∷ b) ≡ word_texts joined_byte a ++ word_texts joined_byte b
words-apart a g b h =
    ap (λ z. map (map joined_byte) (token_words z)) (tokens-apart a g b h)
    ∙ (ap (map (map joined_byte)) (token_words-append (tokens joined_byte a) (Gap g ∷ tokens joined_byte b))
    ∙ map-append (map joined_byte) (token_words (tokens joined_byte a)) (token_words (tokens joined_byte b)))

-- gaps after units change no word
pub words-before_gaps : (a G : List (List Cell)) → AreGapUnits G → word_texts joined_byte (a ++ G) ≡ word_texts joined_byte a
words-before_gaps a [] h = ap (word_texts joined_byte) (append-nil a)
words-before_gaps a (g ∷ G) h =
    words-apart a g G h.0
    ∙ (ap (λ z. word_texts joined_byte a ++ map (map joined_byte) z) ((gap_units-words G h.1).0) ∙ append-nil (word_texts joined_byte a))

-- ---- the last word

-- units without the gaps at their end, and these
abbrev pub front_units : List (List Cell) → List (List Cell)
front_units us = trim_end (is_gap joined_byte) us

abbrev pub gaps_after : List (List Cell) → List (List Cell)
gaps_after us = trailing (is_gap joined_byte) us

pub front-gaps : (us : List (List Cell)) → front_units us ++ gaps_after us ≡ us
front-gaps us = trim_end-trailing (is_gap joined_byte) us

pub gaps-are_gaps : (us : List (List Cell)) → AreGapUnits (gaps_after us)
gaps-are_gaps us = trailing-each (is_gap joined_byte) us

-- the words are those without the gaps at the end
pub front-words : (us : List (List Cell)) → word_texts joined_byte (front_units us) ≡ word_texts joined_byte us
front-words us = sym (words-before_gaps (front_units us) (gaps_after us) (gaps-are_gaps us)) ∙ ap (word_texts joined_byte) (front-gaps us)

last-solid : (us : List (List Cell)) → AllAre IsHeadUnit us → LastFails (is_gap joined_byte) us → (us ≡ []) ⊎ EndsSolid (concat us)
last-solid [] a h = inl refl
last-solid (u ∷ []) a h = inr (subst EndsSolid (sym (append-nil u)) (head_unit-solid u a.0 h).ends)
last-solid (u ∷ v ∷ us) a h = go (last-solid (v ∷ us) a.1 h)
  where
    go : (v ∷ us ≡ []) ⊎ EndsSolid (concat (v ∷ us)) → (u ∷ v ∷ us ≡ []) ⊎ EndsSolid (concat (u ∷ v ∷ us))
    go (inl e) = absurd (cc)
    go (inr e) = inr (EndsSolid-after u (concat (v ∷ us)) e)

-- what stands before the gaps at the end: nothing, or cells that end in a word
pub front-solid : (us : List (List Cell)) → AllAre IsHeadUnit us → (front_units us ≡ []) ⊎ EndsSolid (concat (front_units us))
front-solid us a = last-solid (front_units us) (AllAre-left IsHeadUnit (front_units us) (gaps_after us) (subst (AllAre IsHeadUnit) (sym (front-gaps us)) a)) (trim_end-last_fails (is_gap joined_byte) us)

pub front-cells : (us : List (List Cell)) → concat us ≡ concat (front_units us) ++ concat (gaps_after us)
front-cells us = ap concat (sym (front-gaps us)) ∙ concat-append (front_units us) (gaps_after us)

-- units end as they did
pub units-end : (us : List (List Cell)) → AllAre IsHeadUnit us → EndsAs (concat us) (concat us)
units-end us a = subst (λ z. EndsAs z z) (sym (front-cells us)) (go (front-solid us a))
  where
    go : (front_units us ≡ []) ⊎ EndsSolid (concat (front_units us)) → EndsAs (concat (front_units us) ++ concat (gaps_after us)) (concat (front_units us) ++ concat (gaps_after us))
    go (inl e) = subst (λ z. EndsAs (concat z ++ concat (gaps_after us)) (concat z ++ concat (gaps_after us))) (sym e) (gap_units-end (gaps_after us) (gaps-are_gaps us))
    go (inr s) = EndsAs-after (concat (front_units us)) (concat (front_units us)) (concat (gaps_after us)) (concat (gaps_after us)) s (gap_units-end (gaps_after us) (gaps-are_gaps us))

-- ---- a new word

-- a space
abbrev pub space_unit : List Cell
space_unit = Byte 32 ∷ []

pub space-part : IsPartUnit space_unit
space-part = record { head = record { whole = refl; closed = refl; no_stray = refl; readable = refl; in_head = refl }; no_colon = refl; no_bar = refl }

-- the units of a new word
pub word-parts : (w : List ℕ) → IsNewWord w → AllAre IsPartUnit (cell_units w)
word-parts w h =
    let B = rule_units-are joined_byte (cell_units w) h.units in
    let e : concat (cell_units w) ≡ map Byte w = concat-units joined_byte (map Byte w) in
    let n = append-nil (cell_units w) in
    let again : units joined_byte (concat (cell_units w ++ [])) ≡ cell_units w ++ [] = ap (λ z. units joined_byte (concat z)) n ∙ (ap (units joined_byte) e ∙ sym n) in
    let stray : has_stray (concat (cell_units w)) ≡ false = ap has_stray e ∙ clean-no_stray w h.clean in
    parts-of (cell_units w) (first_units-are_head_units (cell_units w) [] again stray B.readable B.in_head) (no-each (is_colon joined_byte) (cell_units w) B.no_colon) (no-each (is_bar joined_byte) (cell_units w) B.no_bar)

-- the cells of a new word join whatever stands on either side
pub new_word-solid : (w : List ℕ) → IsNewWord w → IsSolid (concat (cell_units w))
new_word-solid w h = word-solid (cell_units w) h.word (part-head (cell_units w) (word-parts w h))

-- a space and a word after the last word of units, and then these gaps
abbrev pub put_units : (word : List ℕ) → (us gaps : List (List Cell)) → List (List Cell)
put_units w us G = front_units us ++ space_unit ∷ (cell_units w ++ G)

module _ (w : List ℕ) (new : IsNewWord w) (us G : List (List Cell)) (gaps : AreGapUnits G) where
  pub put-parts : AllAre IsPartUnit us → AllAre IsPartUnit G → AllAre IsPartUnit (put_units w us G)
  put-parts h g =
      AllAre-append IsPartUnit (front_units us) (space_unit ∷ (cell_units w ++ G)) (AllAre-left IsPartUnit (front_units us) (gaps_after us) (subst (AllAre IsPartUnit) (sym (front-gaps us)) h))
      (space-part, AllAre-append IsPartUnit (cell_units w) G (word-parts w new) g)

  -- the words are the old ones and then the new one
  pub put-words : word_texts joined_byte (put_units w us G) ≡ word_texts joined_byte us ++ w ∷ []
  put-words =
      let g = gap_units-words G gaps in
      let t : tokens joined_byte (cell_units w ++ G) ≡ Word (cell_units w) ∷ tokens joined_byte G = tokens-word joined_byte (cell_units w) G (tokens joined_byte G) new.word refl g.1 in
      let last : word_texts joined_byte (cell_units w ++ G) ≡ w ∷ [] =
      ap (λ z. map (map joined_byte) (token_words z)) t ∙ (ap (λ z. map joined_byte (concat (cell_units w)) ∷ map (map joined_byte) z) g.0 ∙ ap (λ z. z ∷ []) (cell_units-text w)) in
      words-apart (front_units us) space_unit (cell_units w ++ G) refl
      ∙ (ap (λ z. z ++ word_texts joined_byte (cell_units w ++ G)) (front-words us) ∙ ap (λ z. word_texts joined_byte us ++ z) last)

  -- a space, the word and the gaps
  word-cells : AreLineCells (concat G) → AreLineCells (concat (space_unit ∷ (cell_units w ++ G)))
  word-cells g =
      let s = new_word-solid w new in
      let c : concat (cell_units w ++ G) ≡ concat (cell_units w) ++ concat G = concat-append (cell_units w) G in
      let a : AreLineCells (concat (cell_units w)) =
      subst AreLineCells (sym (concat-units joined_byte (map Byte w))) (bytes-are_line_cells w (clean-no_line_end w new.clean)) in
      subst (λ z. AreLineCells (Byte 32 ∷ z)) (sym c)
      (line_cells-before_solid (Byte 32 ∷ []) (concat (cell_units w) ++ concat G) (bytes-are_line_cells (32 ∷ []) (refl, tt)) (line_cells-after_solid (concat (cell_units w)) (concat G) a g s.ends)
      (BeginsSolid-before (concat (cell_units w)) (concat G) s.begins))

  pub put-cells : AllAre IsPartUnit us → AreLineCells (concat us) → AreLineCells (concat G) → AreLineCells (concat (put_units w us G))
  put-cells h a g =
      let front : AreLineCells (concat (front_units us)) = AreLineCells-left (concat (front_units us)) (concat (gaps_after us)) (subst AreLineCells (front-cells us) a) in
      let rest : AreLineCells (concat (space_unit ∷ (cell_units w ++ G))) = word-cells g in
      subst AreLineCells (sym (concat-append (front_units us) (space_unit ∷ (cell_units w ++ G)))) (go front rest (front-solid us (part-head us h)))
    where
      go : AreLineCells (concat (front_units us)) → AreLineCells (concat (space_unit ∷ (cell_units w ++ G))) → (front_units us ≡ []) ⊎ EndsSolid (concat (front_units us))
          → AreLineCells (concat (front_units us) ++ concat (space_unit ∷ (cell_units w ++ G)))
      go front rest (inl e) = subst (λ z. AreLineCells (concat z ++ concat (space_unit ∷ (cell_units w ++ G)))) (sym e) rest
      go front rest (inr s) = line_cells-after_solid (concat (front_units us)) (concat (space_unit ∷ (cell_units w ++ G))) front rest s

  -- the cells with the new word end in the word, or as the gaps do
  pub word-ends : (x y b : List Cell) → EndsAs (concat G) b → EndsAs (x ++ concat (space_unit ∷ (cell_units w ++ G))) (y ++ b)
  word-ends x y b g =
      let s = new_word-solid w new in
      let X = x ++ (space_unit ++ concat (cell_units w)) in
      let e : EndsSolid X = EndsSolid-after x (space_unit ++ concat (cell_units w)) (EndsSolid-after space_unit (concat (cell_units w)) s.ends) in
      let c : X ++ concat G ≡ x ++ concat (space_unit ∷ (cell_units w ++ G)) =
      append_assoc x (space_unit ++ concat (cell_units w)) (concat G) ∙ ap (λ z. x ++ (Byte 32 ∷ z)) (sym (concat-append (cell_units w) G)) in
      subst (λ z. EndsAs z (y ++ b)) c (EndsAs-after X y (concat G) b e g)

  pub put-ends : EndsAs (concat G) (concat (gaps_after us)) → EndsAs (concat (put_units w us G)) (concat us)
  put-ends g =
      subst (λ z. EndsAs z (concat us)) (sym (concat-append (front_units us) (space_unit ∷ (cell_units w ++ G))))
      (subst (EndsAs (concat (front_units us) ++ concat (space_unit ∷ (cell_units w ++ G)))) (sym (front-cells us))
      (word-ends (concat (front_units us)) (concat (front_units us)) (concat (gaps_after us)) g))
