-- The places that a change replaces in the line of an assignment: the code's list is that of the line's pieces; and what comes of
-- the text put there.
use Rattle.std.proofs.Common.{◌≡◌, refl, sym, ap, ◌∙◌, subst, arith, ℕ, zero, suc, ◌+◌, ◌-◌, ◌≤◌, Bool, true, false, cond, List, [], ◌∷◌, ◌++◌, map, take, drop, length, length-append, append_assoc, Option, Some, None}
use Rattle.std.specs.Prelude.{slice_range, if◌then◌else◌}
use Rattle.std.specs.Str.{bytes_eq}
use Rattle.std.proofs.lemmas.Grind.{common_steps}
use Rattle.std.proofs.lemmas.List.{append-nil, length-map, map-append, take_all, length-drop, take-append-drop}
use Rattle.std.proofs.Math.Seq.{drop-append_seam}
use Rattle.memchr.specs.Find.{matches}
use Rattle.mk_lines.specs.Lists.{concat, leading, FirstFails, LastFails}
use Rattle.mk_lines.specs.Limits.{max_text}
use Rattle.mk_lines.specs.Cells.{Cell, joined_byte, joined_text, line_cells, raw_text}
use Rattle.mk_lines.specs.Pieces.{Piece, Keep, Replace, replaced, old_cells, new_cells}
use Rattle.mk_lines.specs.Ranges.{raw_offset, text_at, word_ranges}
use Rattle.mk_lines.specs.Words.{tokens, is_gap}
use Rattle.mk_lines.specs.declared.split.Span.{Span}
use Rattle.mk_lines.proofs.UnitWalkLemmas.{words_left-count}
use Rattle.mk_lines.proofs.on_lists.ListLemmas.{concat-append, leading-after_leading}
use Rattle.mk_lines.proofs.on_lists.PieceLemmas.{old_cells-append}
use Rattle.mk_lines.proofs.on_units.TokenLemmas.{token_text, token_text-tokens, tokens-are_tokens}
use Rattle.mk_class.specs.ListTests.{is_empty}
use Rattle.mk_class.specs.Assignments.{Assignment, operator_length, before_value}
use Rattle.mk_class.specs.LocatedClasses.{width, located_assignment}
use Rattle.mk_class.specs.declared.assignment.Flavor.{Flavor}
use Rattle.mk_class.specs.declared.assignment.Assignment as offsets
use Rattle.mk_class.proofs.on_classes.PartOffsetLemmas.{width-append}
use Rattle.mk_tree.specs.LocatedLines.{LocatedLine, text_of_line}
use Rattle.mk_edit_language.specs.Edits.{LineChange, Prepend, ReplaceWord, InsertWord, Substitute, SetOperator}
use Rattle.mk_edit_language.specs.LineChanges.{begins_with, substituted, tokens_beside, value_pieces, from_operator, operator_pieces, line_pieces, line_change_spans, line_after, stated, value_after}
use Rattle.mk_edit_language.specs.WordPieces.{kept, renamed_words}
use Rattle.mk_edit_language.specs.declared.edit.Side.{Side}
use Rattle.mk_edit_language.proofs.on_changes.WordsBeside.{beside-old_cells}
use Rattle.mk_edit_language.proofs.on_renames.WordsRenamed.{renamed-old_cells}
use Rattle.mk_edit_parts.specs.LineChangePlaces.{new_text, word_place, word_places, separator_among, separator_place, text_places, operator_start, change_places, raw_ranges, CanNote}
use Rattle.mk_edit_parts.specs.RenamedRanges.{span, bytes_in, AreWithin}
use Rattle.mk_edit_parts.specs.RenamedTexts.{AreApart, written, rewritten}
use Rattle.mk_edit_parts.specs.SeenAssignments.{IsAssignmentSeen}
use Rattle.mk_edit_parts.specs.WordCuts.{last_end}
use Rattle.mk_edit_parts.proofs.on_prerequisites.RawPartLemmas.{raw-rises, raw-within}
use Rattle.mk_edit_parts.proofs.on_prerequisites.WordRangeLemmas.{part-ranges}
use Rattle.mk_edit_parts.proofs.on_renaming.PieceRanges.{replacing}
use Rattle.mk_edit.specs.LineChangePlans.{IsSought, is_operator, value_made, CanRewrite}
use Rattle.mk_edit_parts.proofs.on_renaming.WrittenLemmas.{apart-bytes, written-replaced}
use Rattle.mk_edit_parts.proofs.on_line_changes.PiecePlaces.{places, AllBecome, places-raw, places-text}
use Rattle.mk_edit_parts.proofs.on_line_changes.WordsAndTexts.{words-places, words-become, texts-old, texts-places, texts-become}
use Rattle.mk_edit.proofs.on_line_changes.WordsBeside.{IsSeparator, begin-in_word, beside-places, count_among, end-in_word, first_separator, one-become, separator-is}
use Rattle.mk_edit.proofs.on_line_changes.OperatorPlaces.{HasOperator, cut-operator, starts-behind}

-- ---- the cells of the pieces

value-old : (said : List Cell → List ℕ) (c : LineChange) (us : List (List Cell)) → IsSought c → old_cells (value_pieces said c us) ≡ concat us
value-old said (Prepend v) us h = append-nil (concat us)
value-old said (ReplaceWord w v) us h = renamed-old_cells w v (tokens joined_byte us) ∙ token_text-tokens joined_byte us
value-old said (InsertWord i w n) us h = beside-old_cells i said w n [] (tokens joined_byte us) ∙ token_text-tokens joined_byte us
value-old said (Substitute f v) us h = texts-old f v 0 (concat us) h
value-old said (SetOperator o) us h = append-nil (concat us)

operator-old : (c : LineChange) (a : Assignment Cell) → old_cells (operator_pieces c a) ≡ concat a.operator
operator-old (SetOperator f) a =
    let n = operator_length a.flavor in
    let G = leading (is_gap joined_byte) a.operator in
    let F = from_operator a in
    ap (λ z. concat G ++ (concat (take n F) ++ z)) (append-nil (concat (drop n F)))
    ∙ (ap (λ z. concat G ++ z) (sym (concat-append (take n F) (drop n F)) ∙ ap concat (take-append-drop n F))
    ∙ (sym (concat-append G F) ∙ ap concat (leading-after_leading (is_gap joined_byte) a.operator)))
operator-old (Prepend v) a = append-nil (concat a.operator)
operator-old (ReplaceWord w v) a = append-nil (concat a.operator)
operator-old (InsertWord i w n) a = append-nil (concat a.operator)
operator-old (Substitute f v) a = append-nil (concat a.operator)

-- the pieces of the line, where a separator of words is said so
abbrev pub pieces_said : (said : List Cell → List ℕ) → LineChange → Assignment Cell → List Piece
pieces_said said c a = kept (a.before ++ a.name) ++ (operator_pieces c a ++ value_pieces said c a.value)

-- they are of all that stands before the value's end
line-old : (said : List Cell → List ℕ) (c : LineChange) (a : Assignment Cell) → IsSought c → old_cells (pieces_said said c a) ≡ concat (before_value a) ++ concat a.value
line-old said c a h =
    let N = concat (a.before ++ a.name) in
    let O = concat a.operator in
    let V = concat a.value in
    let front : concat (before_value a) ≡ N ++ O = ap concat (sym (append_assoc a.before a.name a.operator)) ∙ concat-append (a.before ++ a.name) a.operator in
    ap (λ z. N ++ z) (old_cells-append (operator_pieces c a) (value_pieces said c a.value) ∙ (ap (λ z. z ++ old_cells (value_pieces said c a.value)) (operator-old c a) ∙ ap (λ z. O ++ z) (value-old said c a.value h)))
    ∙ (sym (append_assoc N O V) ∙ ap (λ z. z ++ V) (sym front))

-- ---- the text that goes there

prepend-text : (v t : List ℕ) (us : List (List Cell)) → is_empty t ≡ is_empty us → (if is_empty us then v else v ++ 32 ∷ []) ≡ v ++ (if is_empty t then [] else 32 ∷ [])
prepend-text v t us h = go (is_empty us) ∙ ap (λ b. v ++ (if b then [] else 32 ∷ [])) (sym h)
  where
    go : (b : Bool) → (if b then v else v ++ 32 ∷ []) ≡ v ++ (if b then [] else 32 ∷ [])
    go true = sym (append-nil v)
    go false = refl

-- one word at most is that beside which a new one goes, and this text separates them
abbrev pub Separates : (said : List Cell → List ℕ) → LineChange → Assignment Cell → (separator : List ℕ) → Type 0
Separates said (InsertWord i w n) a s = (count_among w (tokens joined_byte a.value) ≤ 1) × (s ≡ said (first_separator i w [] (tokens joined_byte a.value)))
Separates said c a s = Unit {0}

-- each place of the line gets the new text
pub line-become : (said : List Cell → List ℕ) (c : LineChange) (a : Assignment Cell) (s t : List ℕ) → is_empty t ≡ is_empty a.value → Separates said c a s → AllBecome (new_text c s t) (pieces_said said c a)
line-become said (Prepend v) a s t h k = (prepend-text v t a.value h, tt)
line-become said (ReplaceWord w v) a s t h k = words-become w v (tokens joined_byte a.value)
line-become said (InsertWord i w n) a s t h k =
    subst (λ z. AllBecome (new_text (InsertWord i w n) z t) (tokens_beside i said w n [] (tokens joined_byte a.value))) (sym k.1) (one-become i said w n t [] (tokens joined_byte a.value) k.0)
line-become said (Substitute f v) a s t h k = texts-become f v 0 (concat a.value)
line-become said (SetOperator o) a s t h k = (refl, tt)

-- ---- the places

-- ranges that stand apart in the joined text have raw ranges that do
raw-apart : (cs : List Cell) (d n : ℕ) (ss : List Span) → AreApart d n ss → AreApart (raw_offset cs d) (raw_offset cs n) (raw_ranges cs ss)
raw-apart cs d n [] h = raw-rises cs d n h
raw-apart cs d n (s ∷ ss) h = (raw-rises cs d s.start h.0, raw-rises cs s.start s.end h.1, raw-apart cs s.end n ss h.2)

apart-until : (d n m : ℕ) (ss : List Span) → n ≤ m → AreApart d n ss → AreApart d m ss
apart-until d n m [] h k = omega (arith, h, k)
apart-until d n m (s ∷ ss) h k = (k.0, k.1, apart-until s.end n m ss h k.2)

-- where the value begins
value-at : (a : Assignment Cell) → (located_assignment 0 a).value.start ≡ 0 + length (concat (a.before ++ a.name)) + length (concat a.operator)
value-at a = omega (arith, width-append a.before a.name)

name-at : (a : Assignment Cell) → (located_assignment 0 a).name.end ≡ 0 + length (concat (a.before ++ a.name))
name-at a = omega (arith, width-append a.before a.name)

module _ (l : LocatedLine) (a : Assignment Cell) (rest : List Cell) (S : IsAssignmentSeen l (located_assignment 0 a) a rest) where
  abbrev cs : List Cell
  cs = line_cells l.bytes

  abbrev text : List ℕ
  text = text_of_line l

  abbrev at : offsets.Assignment
  at = located_assignment 0 a

  abbrev base : ℕ
  base = 0 + length (concat (a.before ++ a.name)) + length (concat a.operator)

  value-text : text_at text at.value ≡ joined_text (concat a.value)
  value-text = S.located.value.text_is

  line-words : (w v : List ℕ) → change_places (ReplaceWord w v) text at ≡ places base (renamed_words w v a.value)
  line-words w v =
      let ts = tokens joined_byte a.value in
      let B = concat (before_value a) in
      let A = concat a.after ++ rest in
      let whole : cs ≡ B ++ (token_text ts ++ A) = S.cells_are ∙ ap (λ z. B ++ (z ++ A)) (sym (token_text-tokens joined_byte a.value)) in
      let n : at.value.start + 0 ≡ length B = omega (arith, width-append a.before (a.name ++ a.operator), width-append a.name a.operator) in
      let s : at.value.start + 0 ≡ base = omega (arith, value-at a) in
      ap (word_places text at.value.start None w) (part-ranges cs at.value.start at.value.end _ a.value S.located.value)
      ∙ (words-places cs B ts A w v at.value.start 0 whole n ∙ ap (λ z. places z (renamed_words w v a.value)) s)

  line-beside : (said : List Cell → List ℕ) (i : Side) (w v : List ℕ) → change_places (InsertWord i w v) text at ≡ places base (value_pieces said (InsertWord i w v) a.value)
  line-beside said i w v =
      let ts = tokens joined_byte a.value in
      let B = concat (before_value a) in
      let A = concat a.after ++ rest in
      let whole : cs ≡ B ++ (token_text ts ++ A) = S.cells_are ∙ ap (λ z. B ++ (z ++ A)) (sym (token_text-tokens joined_byte a.value)) in
      let n : at.value.start + 0 ≡ length B = omega (arith, width-append a.before (a.name ++ a.operator), width-append a.name a.operator) in
      let s : at.value.start + 0 ≡ base = omega (arith, value-at a) in
      ap (word_places text at.value.start (Some i) w) (part-ranges cs at.value.start at.value.end _ a.value S.located.value)
      ∙ (beside-places i said w v cs B [] ts A at.value.start 0 whole n ∙ ap (λ z. places z (tokens_beside i said w v [] ts)) s)

  -- what the code takes as the separator
  pub line-separator : (i : Side) (w v : List ℕ) → FirstFails (is_gap joined_byte) a.value → LastFails (is_gap joined_byte) a.value
      → IsSeparator cs (separator_place (InsertWord i w v) text at) (first_separator i w [] (tokens joined_byte a.value))
  line-separator i w v first last =
      let ts = tokens joined_byte a.value in
      let B = concat (before_value a) in
      let A = concat a.after ++ rest in
      let whole : cs ≡ B ++ ([] ++ (token_text ts ++ A)) = S.cells_are ∙ ap (λ z. B ++ (z ++ A)) (sym (token_text-tokens joined_byte a.value)) in
      let n : at.value.start + 0 ≡ length B + 0 = omega (arith, width-append a.before (a.name ++ a.operator), width-append a.name a.operator) in
      subst (λ z. IsSeparator cs (separator_among i text at.value.start w None z) (first_separator i w [] ts)) (sym (part-ranges cs at.value.start at.value.end _ a.value S.located.value))
      (separator-is i w None cs B [] ts A at.value.start 0 whole n (tokens-are_tokens joined_byte a.value) (end-in_word a.value last) (refl, begin-in_word a.value first))

  line-texts : (f v : List ℕ) → 1 ≤ length f → change_places (Substitute f v) text at ≡ places base (substituted f v 0 (concat a.value))
  line-texts f v some =
      let V = concat a.value in
      let m : length (joined_text V) + 1 - 0 ≡ length V + 1 = omega (arith, length-map V joined_byte) in
      let s : at.value.start + 0 + 0 ≡ base = omega (arith, value-at a) in
      ap (λ z. text_places at.value.start (length f) (matches z f 0)) value-text
      ∙ (texts-places f v [] V 0 at.value.start 0 (length (joined_text V) + 1 - 0) some (omega arith) refl m ∙ ap (λ z. places z (substituted f v 0 V)) s)

  line-operator : (said : List Cell → List ℕ) (o : Flavor) → HasOperator a.operator a.flavor → change_places (SetOperator o) text at ≡ places 0 (pieces_said said (SetOperator o) a)
  line-operator said o H =
      let n = operator_length a.flavor in
      let C = cut-operator a.operator a.flavor H in
      let N = concat (a.before ++ a.name) in
      let R = concat a.value ++ (concat a.after ++ rest) in
      let front : concat (before_value a) ≡ N ++ concat a.operator = ap concat (sym (append_assoc a.before a.name a.operator)) ∙ concat-append (a.before ++ a.name) a.operator in
      let whole : text ≡ joined_text (N ++ (concat a.operator ++ R)) = ap joined_text (S.cells_are ∙ (ap (λ z. z ++ R) front ∙ append_assoc N (concat a.operator) R)) in
      let e : at.name.end ≡ length N = omega (arith, name-at a) in
      let P = 0 + length N + length (concat (leading (is_gap joined_byte) a.operator)) in
      let start : operator_start text at.name.end ≡ P = ap (λ t. operator_start t at.name.end) whole ∙ (starts-behind a.operator a.flavor H N R at.name.end e ∙ omega (arith, e, ap width C.before)) in
      ap (λ z. span z (z + n) ∷ []) start ∙ ap (λ z. span P (P + z) ∷ []) (sym C.wide)

  -- the code's list of places is that of the line's pieces
  pub line-places : (said : List Cell → List ℕ) (c : LineChange) → IsSought c → HasOperator a.operator a.flavor → change_places c text at ≡ places 0 (pieces_said said c a)
  line-places said (Prepend v) h H =
      let s : at.value.start ≡ base = value-at a in
      let e : base ≡ base + 0 = omega arith in
      ap (λ z. span z z ∷ []) s ∙ ap (λ z. span base z ∷ []) e
  line-places said (ReplaceWord w v) h H = line-words w v
  line-places said (InsertWord i w n) h H = line-beside said i w n
  line-places said (Substitute f v) h H = line-texts f v h
  line-places said (SetOperator o) h H = line-operator said o H

  -- the cells of the line are those of its pieces, and others behind them
  line-cells : (said : List Cell → List ℕ) (c : LineChange) → IsSought c → cs ≡ [] ++ (old_cells (pieces_said said c a) ++ (concat a.after ++ rest))
  line-cells said c h = S.cells_are ∙ (sym (append_assoc (concat (before_value a)) (concat a.value) (concat a.after ++ rest)) ∙ ap (λ z. z ++ (concat a.after ++ rest)) (sym (line-old said c a h)))

  -- ---- where they stand

  places-within : (n k : ℕ) (ps : List Piece) → k + length (old_cells ps) ≤ n → AreWithin n (places k ps)
  places-within n k [] h = tt
  places-within n k (Keep ks ∷ ps) h = places-within n (k + length ks) ps (omega (arith, h, length-append ks (old_cells ps)))
  places-within n k (Replace ks v ∷ ps) h = ((omega arith, omega (arith, h, length-append ks (old_cells ps))), places-within n (k + length ks) ps (omega (arith, h, length-append ks (old_cells ps))))

  places-apart : (d k n : ℕ) (ps : List Piece) → d ≤ k → k + length (old_cells ps) ≤ n → AreApart d n (places k ps)
  places-apart d k n [] h q = omega (arith, h, q)
  places-apart d k n (Keep ks ∷ ps) h q = places-apart d (k + length ks) n ps (omega (arith, h)) (omega (arith, q, length-append ks (old_cells ps)))
  places-apart d k n (Replace ks v ∷ ps) h q = (h, omega arith, places-apart (k + length ks) (k + length ks) n ps (omega arith) (omega (arith, q, length-append ks (old_cells ps))))

  pub line-within : (said : List Cell → List ℕ) (c : LineChange) → IsSought c → AreWithin (length cs) (places 0 (pieces_said said c a))
  line-within said c h = places-within (length cs) 0 (pieces_said said c a) (omega (arith, ap length (line-cells said c h), length-append (old_cells (pieces_said said c a)) (concat a.after ++ rest)))

  -- ---- the raw line

  pub line-apart : (said : List Cell → List ℕ) (c : LineChange) → IsSought c → AreApart 0 (length l.bytes) (raw_ranges cs (places 0 (pieces_said said c a)))
  line-apart said c h =
      let n = length (old_cells (pieces_said said c a)) in
      apart-until 0 (raw_offset cs n) (length l.bytes) (raw_ranges cs (places 0 (pieces_said said c a))) (raw-within l.bytes n)
      (raw-apart cs 0 n (places 0 (pieces_said said c a)) (places-apart 0 0 n (pieces_said said c a) (omega arith) (omega arith)))

  pub line-raw : (c : LineChange) (n : List ℕ) → IsSought c → AllBecome n (line_pieces c a) → replacing n (raw_ranges cs (places 0 (line_pieces c a))) ≡ line_change_spans c 0 a
  line-raw c n h all = places-raw cs [] (concat a.after ++ rest) (line_pieces c a) n 0 all (line-cells raw_text c h) refl

  pub line-rewritten : (c : LineChange) (n : List ℕ) → IsSought c → AllBecome n (line_pieces c a) → rewritten l.bytes n (raw_ranges cs (places 0 (line_pieces c a))) ≡ line_after c l.bytes a
  line-rewritten c n h all = written-replaced l.bytes 0 n _ (line-apart raw_text c h) ∙ ap (replaced 0 l.bytes) (line-raw c n h all)

  -- ---- the joined text

  -- the text up to the end of the value
  abbrev front_text : List ℕ
  front_text = text_at text (span 0 at.value.end)

  front-is : (said : List Cell → List ℕ) (c : LineChange) → IsSought c → front_text ≡ joined_text (old_cells (pieces_said said c a))
  front-is said c h =
      let J = map joined_byte in
      let ks = old_cells (pieces_said said c a) in
      let A = concat a.after ++ rest in
      let n : at.value.end ≡ length (J ks) =
      omega (arith, ap length (line-old said c a h), length-append (concat (before_value a)) (concat a.value), width-append a.before (a.name ++ a.operator), width-append a.name a.operator, length-map ks joined_byte) in
      let whole : text ≡ J ks ++ J A = ap J (line-cells said c h) ∙ map-append joined_byte ks A in
      ap (λ z. slice_range z 0 at.value.end) whole ∙ (ap (λ m. take m (J ks ++ J A)) (let q : at.value.end - 0 ≡ length (J ks) = omega (arith, n) in q) ∙ take_front (J ks) (J A))
    where
      take_front : (x y : List ℕ) → take (length x) (x ++ y) ≡ x
      take_front [] y = refl
      take_front (b ∷ x) y = ap (λ z. b ∷ z) (take_front x y)

  -- with the new text in its places
  front-rewritten : (said : List Cell → List ℕ) (c : LineChange) (n : List ℕ) → IsSought c → AllBecome n (pieces_said said c a) → rewritten front_text n (places 0 (pieces_said said c a)) ≡ joined_text (new_cells (pieces_said said c a))
  front-rewritten said c n h all =
      let J = map joined_byte in
      let ps = pieces_said said c a in
      let P = places 0 ps in
      let ks = old_cells ps in
      let t = J ks in
      let e = last_end 0 P in
      let T = places-text [] [] ps t n 0 0 all (ap J (sym (append-nil ks))) refl (omega arith) in
      let size : 0 + length ks ≡ length t = omega (arith, length-map ks joined_byte) in
      let behind : slice_range t e (0 + length ks) ≡ drop e t = ap (λ z. take (z - e) (drop e t)) size ∙ take_all (length t - e) (drop e t) (omega (arith, length-drop e t)) in
      ap (λ z. rewritten z n P) (front-is said c h) ∙ (ap (λ z. written t 0 n P ++ z) (sym behind) ∙ T)

  -- from where the value begins
  value-rewritten : (said : List Cell → List ℕ) (c : LineChange) → IsSought c → drop at.value.start (joined_text (new_cells (kept (a.before ++ a.name) ++ (kept a.operator ++ value_pieces said c a.value)))) ≡ joined_text (new_cells (value_pieces said c a.value))
  value-rewritten said c h =
      let J = map joined_byte in
      let N = concat (a.before ++ a.name) in
      let O = concat a.operator in
      let V = new_cells (value_pieces said c a.value) in
      let whole : J (N ++ (O ++ V)) ≡ J (N ++ O) ++ J V = ap J (sym (append_assoc N O V)) ∙ map-append joined_byte (N ++ O) V in
      let s : at.value.start ≡ length (J (N ++ O)) = omega (arith, value-at a, length-map (N ++ O) joined_byte, length-append N O) in
      ap (drop at.value.start) whole ∙ (ap (λ z. drop z (J (N ++ O) ++ J V)) s ∙ drop-append_seam (J (N ++ O)) (J V))

  -- the value that the line is said to have
  pub value-made : (c : LineChange) (n : List ℕ) → IsSought c → AllBecome n (pieces_said joined_text c a) → value_made c text at (places 0 (pieces_said joined_text c a)) n ≡ value_after c a.value
  value-made (SetOperator o) n h all = value-text ∙ ap joined_text (sym (append-nil (concat a.value)))
  value-made (Prepend v) n h all = ap (drop at.value.start) (front-rewritten joined_text (Prepend v) n h all) ∙ value-rewritten joined_text (Prepend v) h
  value-made (ReplaceWord w v) n h all = ap (drop at.value.start) (front-rewritten joined_text (ReplaceWord w v) n h all) ∙ value-rewritten joined_text (ReplaceWord w v) h
  value-made (InsertWord i w v) n h all = ap (drop at.value.start) (front-rewritten joined_text (InsertWord i w v) n h all) ∙ value-rewritten joined_text (InsertWord i w v) h
  value-made (Substitute f v) n h all = ap (λ z. stated (Substitute f v) (drop at.value.start z)) (front-rewritten joined_text (Substitute f v) n h all) ∙ ap (stated (Substitute f v)) (value-rewritten joined_text (Substitute f v) h)

  front-length : length front_text ≡ at.value.end
  front-length = grind (arith, common_steps, S.located.value.within, length-map cs joined_byte)

  begins-there : (said : List Cell → List ℕ) (c : LineChange) (n : List ℕ) → IsSought c → AllBecome n (pieces_said said c a) → is_operator c ≡ false → at.value.start ≤ length (rewritten front_text n (places 0 (pieces_said said c a)))
  begins-there said c n h all o = go c h all o
    where
      wide : (V : List Cell) → at.value.start ≤ length (joined_text (concat (a.before ++ a.name) ++ (concat a.operator ++ V)))
      wide V = omega (arith, value-at a, length-map (concat (a.before ++ a.name) ++ (concat a.operator ++ V)) joined_byte, length-append (concat (a.before ++ a.name)) (concat a.operator ++ V), length-append (concat a.operator) V)

      go : (c : LineChange) → IsSought c → AllBecome n (pieces_said said c a) → is_operator c ≡ false → at.value.start ≤ length (rewritten front_text n (places 0 (pieces_said said c a)))
      go (SetOperator o) h all k = absurd (cc)
      go (Prepend v) h all k = subst (λ z. at.value.start ≤ length z) (sym (front-rewritten said (Prepend v) n h all)) (wide (new_cells (value_pieces said (Prepend v) a.value)))
      go (ReplaceWord w v) h all k = subst (λ z. at.value.start ≤ length z) (sym (front-rewritten said (ReplaceWord w v) n h all)) (wide (new_cells (value_pieces said (ReplaceWord w v) a.value)))
      go (InsertWord i w v) h all k = subst (λ z. at.value.start ≤ length z) (sym (front-rewritten said (InsertWord i w v) n h all)) (wide (new_cells (value_pieces said (InsertWord i w v) a.value)))
      go (Substitute f v) h all k = subst (λ z. at.value.start ≤ length z) (sym (front-rewritten said (Substitute f v) n h all)) (wide (new_cells (value_pieces said (Substitute f v) a.value)))

  front-apart : (said : List Cell → List ℕ) (c : LineChange) → IsSought c → AreApart 0 (length front_text) (places 0 (pieces_said said c a))
  front-apart said c h =
      let ks = old_cells (pieces_said said c a) in
      places-apart 0 0 (length front_text) (pieces_said said c a) (omega arith) (omega (arith, ap length (front-is said c h), length-map ks joined_byte))

  pub line-can_rewrite : (said : List Cell → List ℕ) (c : LineChange) (n : List ℕ) → IsSought c → AllBecome n (pieces_said said c a) → CanRewrite c text at (places 0 (pieces_said said c a)) n
  line-can_rewrite said c n h all = record {
    rises = S.located.value.rises;
    within = omega (arith, S.located.value.within, length-map cs joined_byte);
    apart = subst (λ z. AreApart 0 z (places 0 (pieces_said said c a))) front-length (front-apart said c h);
    begins = begins-there said c n h all;
  }

  -- ---- what can be noted

  words-few : (t : List ℕ) (s : ℕ) (i : Option Side) (w : List ℕ) (ws : List Span) → length (word_places t s i w ws) ≤ length ws
  words-few t s i w [] = omega arith
  words-few t s i w (x ∷ ws) = go (bytes_eq (text_at t (span (s + x.start) (s + x.end))) w) (words-few t s i w ws)
    where
      go : (b : Bool) → length (word_places t s i w ws) ≤ length ws → length (cond b (word_place i (span (s + x.start) (s + x.end)) ∷ word_places t s i w ws) (word_places t s i w ws)) ≤ length (x ∷ ws)
      go true h = omega (arith, h)
      go false h = omega (arith, h)

  texts-few : (f v : List ℕ) (k s : ℕ) (ks : List Cell) → length (places s (substituted f v k ks)) ≤ length ks
  texts-few f v k s [] = omega arith
  texts-few f v (suc k) s (c ∷ ks) = omega (arith, texts-few f v k s ks)
  texts-few f v zero s (c ∷ ks) =
      go (begins_with f (c ∷ ks)) (texts-few f v (length f - 1) (s + length (take (length f) (c ∷ ks))) ks) (texts-few f v zero (s + length (c ∷ [])) ks)
    where
      go : (b : Bool) → length (places (s + length (take (length f) (c ∷ ks))) (substituted f v (length f - 1) ks)) ≤ length ks → length (places (s + length (c ∷ [])) (substituted f v zero ks)) ≤ length ks
          → length (places s (cond b (Replace (take (length f) (c ∷ ks)) v ∷ substituted f v (length f - 1) ks) (Keep (c ∷ []) ∷ substituted f v zero ks))) ≤ length (c ∷ ks)
      go true h k = omega (arith, h)
      go false h k = omega (arith, k)

  value-short : length (concat a.value) ≤ length cs
  value-short = omega (arith, ap length S.cells_are, length-append (concat (before_value a)) (concat a.value ++ (concat a.after ++ rest)), length-append (concat a.value) (concat a.after ++ rest))

  few-words : (i : Option Side) (w : List ℕ) → length (word_places text at.value.start i w (word_ranges (text_at text at.value))) ≤ length cs
  few-words i w =
      let t = text_at text at.value in
      let n : length (word_ranges t) ≤ length t = let z : length t - length t ≡ 0 = omega arith in omega (arith, words_left-count (length t) t, ap (λ k. length (Rattle.mk_lines.specs.Ranges.word_token_ranges k (tokens (λ b. b) (Rattle.mk_lines.specs.Units.units (λ b. b) t)))) z) in
      omega (arith, words-few text at.value.start i w (word_ranges t), n, ap length value-text, length-map (concat a.value) joined_byte, value-short)

  few-places : (c : LineChange) → IsSought c → HasOperator a.operator a.flavor → length (change_places c text at) ≤ length cs + 1
  few-places (Prepend v) h H = omega arith
  few-places (ReplaceWord w v) h H = omega (arith, few-words None w)
  few-places (InsertWord i w n) h H = omega (arith, few-words (Some i) w)
  few-places (Substitute f v) h H = omega (arith, ap length (line-texts f v h), texts-few f v 0 base (concat a.value), value-short)
  few-places (SetOperator o) h H = omega arith

  pub line-can_note : (c : LineChange) → IsSought c → HasOperator a.operator a.flavor → length l.bytes ≤ max_text → length cs ≤ max_text → CanNote cs (change_places c text at)
  line-can_note c h H short cells =
      let e = line-places raw_text c h H in
      let b = apart-bytes 0 (length l.bytes) _ (line-apart raw_text c h) in
      record {
        within = subst (AreWithin (length cs)) (sym e) (line-within raw_text c h);
        few = omega (arith, few-places c h H, cells);
        few_bytes = omega (arith, ap (λ ss. bytes_in (raw_ranges cs ss)) e, b, short);
      }
