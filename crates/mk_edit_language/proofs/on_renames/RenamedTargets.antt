-- A target assignment's line after a rename stands in the place of the old one: a line of class TargetAssign with the new word for
-- each target that was the old.
use Rattle.std.proofs.Common.{◌≡◌, refl, sym, ap, ◌∙◌, subst, ℕ, List, [], ◌∷◌, ◌++◌, map, Bool, true, false, cond, append_assoc, reverse}
use Rattle.std.specs.List.{list_any}
use Rattle.std.specs.Prelude.{nat_lt}
use Rattle.std.proofs.lemmas.Bool.{or_from}
use Rattle.mk_lines.specs.Lists.{concat, Each}
use Rattle.mk_lines.proofs.on_lists.ListLemmas.{Each-append, Each-left, Each-right, concat-append}
use Rattle.mk_lines.specs.PhysicalLines.{line_end, line_end_bytes, without_line_end}
use Rattle.mk_lines.specs.Cells.{Cell, Byte, joined_byte, raw_text, line_cells}
use Rattle.mk_lines.specs.CellFaults.{has_stray, has_bad_fold}
use Rattle.mk_lines.proofs.on_cells.CellLemmas.{raw_text-append, raw_text-cells}
use Rattle.mk_lines.proofs.on_lines.LineLemmas.{OneLine, EndsBefore}
use Rattle.mk_lines.proofs.on_lines.LineEndLemmas.{KeepsApart, without_line_end-line_end}
use Rattle.mk_lines.proofs.on_cells.LineCells.{AreLineCells, AreLineCells-left, AreLineCells-right, EndLineBefore, EndLineBefore-tail, KeepsApart-tail, IsLineOf, line-of_cells, line-ends, line-keeps_apart}
use Rattle.mk_lines.specs.Pieces.{Keep, Replace, old_bytes, new_bytes}
use Rattle.mk_lines.proofs.on_lists.PieceLemmas.{raw_text-old_cells, raw_text-new_cells}
use Rattle.mk_lines.specs.Units.{units}
use Rattle.mk_lines.proofs.on_units.UnitLemmas.{concat-units}
use Rattle.mk_lines.specs.Words.{Token, Gap, Word, tokens, token_units, AreTokens}
use Rattle.mk_lines.proofs.on_units.TokenLemmas.{token_text, token_units-tokens, token_text-tokens, tokens-are_tokens}
use Rattle.mk_lines.proofs.on_lists.BoolLemmas.{or-left_false}
use Rattle.mk_lines.proofs.on_cells.CellsReplaced.{not_empty-append}
use Rattle.mk_class.specs.ListTests.{is_empty, last_passes}
use Rattle.mk_class.specs.Texts.{word_texts}
use Rattle.mk_class.specs.Symbols.{is_colon, is_ampersand}
use Rattle.mk_class.specs.CutTexts.{is_in_head, is_no_hash}
use Rattle.mk_class.specs.Arguments.{is_word}
use Rattle.mk_class.specs.Assignments.{assignment}
use Rattle.mk_class.proofs.on_assignments.AssignmentLineLemmas.{some_raw, some_cell, cells_class}
use Rattle.mk_class.specs.Headers
use Rattle.mk_class.specs.Headers.{is_no_colon}
use Rattle.mk_class.specs.RecipePrefix.{is_prefix_led}
use Rattle.mk_class.specs.Classes.{Class}
use Rattle.mk_class.specs.Classes.Class.{TargetAssign}
use Rattle.mk_class.specs.ClassTable.{class_of, directive, is_unreadable, plain_class}
use Rattle.mk_class.proofs.on_classes.ClassLemmas.{readable-are_line_cells, has_stray-append, has_stray-left, has_stray-right}
use Rattle.mk_class.specs.declared.rule.Separator.TheVariants.{SingleColon}
use Rattle.mk_class.proofs.on_assignments.ValueLemmas.{clean-no_stray}
use Rattle.mk_edit_language.specs.AddressCauses.{begins_renamed_line}
use Rattle.mk_edit_language.specs.WordPieces.{renamed_words, renamed_tokens, is_replaced, is_word_of}
use Rattle.mk_edit_language.proofs.on_lines.HeadUnits.{line_cells-before_solid}
use Rattle.mk_edit_language.proofs.on_lines.HeadWords.{concat-token_units}
use Rattle.mk_edit_language.proofs.on_lines.DirectiveWords.{alike-say_same, same-no_directive}
use Rattle.mk_edit_language.proofs.on_lines.HeaderParts.{colon-is, colons-begin}
use Rattle.mk_edit_language.proofs.on_prerequisites.NewWords.{IsNewWord, cell_units, rule_units-are}
use Rattle.mk_edit_language.proofs.on_renames.WordsRenamed.{tokens_renamed, renamed_word, renamed-are_tokens, renamed-alike}
use Rattle.mk_edit_language.proofs.on_renames.RenamedHeaders.{IsNewTarget, renamed_units, renamed-cells, renamed-last_ampersand, renamed-old, renamed-new, and-right, and-of, none-replaced, renamed-not_led}
use Rattle.mk_edit_language.proofs.on_renames.RenamedTexts.{AreRenamed, targets_renamed}
use Rattle.mk_edit_language.proofs.on_renames.TargetUnits.{free-apart, free-no_colon, units-renamed}
use Rattle.mk_edit_language.proofs.on_renames.TargetLines.{TargetParts, IsTargetRead, class_at-target, target-parts, FitAsTargets, target-again}
use Rattle.mk_edit_language.proofs.on_renames.TargetNames.{new-names, old-names, renamed-unassigned}

-- ---- the units

-- each unit passes a test after a rename, if the old units and those of the new word do
each-renamed : (o n : List ℕ) (p : List Cell → Bool) → Each p (cell_units n) → (ts : List (Token Cell)) → Each p (token_units ts) → Each p (token_units (tokens_renamed o n ts))
each-renamed o n p e [] h = tt
each-renamed o n p e (Gap u ∷ ts) h = (h.0, each-renamed o n p e ts h.1)
each-renamed o n p e (Word w ∷ ts) h = Each-append p (renamed_word o n w) (token_units (tokens_renamed o n ts)) (go (is_word_of o w)) (each-renamed o n p e ts (Each-right p w (token_units ts) h))
  where
    go : (c : Bool) → Each p (cond c (cell_units n) w)
    go true = e
    go false = Each-left p w (token_units ts) h

each-target : (o n : List ℕ) (p : List Cell → Bool) → Each p (cell_units n) → (us : List (List Cell)) → Each p us → Each p (renamed_units o n us)
each-target o n p e us h = each-renamed o n p e (tokens joined_byte us) (subst (Each p) (sym (token_units-tokens joined_byte us)) h)

-- the targets after a rename may stand in the place of the old ones
renamed-fit : (o n : List ℕ) → IsNewTarget o n → is_word o ≡ true → is_word n ≡ true → (c : Bool) (cs : List Cell) (a : Headers.TargetAssignment Cell) (p : TargetParts c (units joined_byte cs) a)
    → FitAsTargets c (units joined_byte cs) a p (renamed_units o n a.targets)
renamed-fit o n new i j c cs a p =
    let T = a.targets in
    let ts = tokens joined_byte T in
    let F = p.first ∷ p.rest in
    let B = rule_units-are joined_byte (cell_units n) new.word.units in
    let same : token_units ts ≡ T = token_units-tokens joined_byte T in
    let are : AreTokens joined_byte ts = tokens-are_tokens joined_byte T in
    let names = old-names o i ts cs (p.first ∷ (p.rest ++ p.tail)) (p.units_are ∙ ap (λ z. z ++ (p.first ∷ (p.rest ++ p.tail))) (sym same)) in
    let begins = colons-begin (p.first ∷ []) p.rest SingleColon (ap (λ z. z ∷ []) p.colon) in
    let say = alike-say_same ts (tokens_renamed o n ts) F F are (renamed-are_tokens o n new.word ts are) (renamed-alike o n new.word new.old_free new.new_free ts) begins begins in
    record {
      in_head = each-target o n (is_in_head joined_byte) B.in_head T p.in_head;
      no_hash = each-target o n (is_no_hash joined_byte) B.no_hash T p.targets_no_hash;
      no_colon = each-target o n (is_no_colon joined_byte) B.no_colon T (free-no_colon T F p.free);
      apart =
          and-of (last_passes (is_ampersand joined_byte) (renamed_units o n T)) (is_colon joined_byte p.first)
          (λ e. renamed-last_ampersand o n new T (and-right (last_passes (is_ampersand joined_byte) T) (is_colon joined_byte p.first) (free-apart T F p.free) e));
      unassigned = renamed-unassigned o n new p.first p.rest p.colon (new-names n j) ts are names (ap (λ z. assignment joined_byte (z ++ F)) same ∙ p.unassigned);
      undirected =
          same-no_directive c (word_texts joined_byte (token_units ts ++ F)) (word_texts joined_byte (token_units (tokens_renamed o n ts) ++ F)) say
          (ap (λ z. directive c (word_texts joined_byte (z ++ F))) same ∙ p.undirected);
    }

-- ---- the cells and bytes

-- cells with words renamed have no stray byte where they had none
renamed-no_stray : (o n : List ℕ) → IsNewWord n → (ts : List (Token Cell)) → has_stray (token_text ts) ≡ false → has_stray (token_text (tokens_renamed o n ts)) ≡ false
renamed-no_stray o n new [] h = refl
renamed-no_stray o n new (Gap u ∷ ts) h =
    has_stray-append u (token_text (tokens_renamed o n ts)) (has_stray-left u (token_text ts) h) (renamed-no_stray o n new ts (has_stray-right u (token_text ts) h))
renamed-no_stray o n new (Word w ∷ ts) h =
    has_stray-append (concat (renamed_word o n w)) (token_text (tokens_renamed o n ts)) (go (is_word_of o w)) (renamed-no_stray o n new ts (has_stray-right (concat w) (token_text ts) h))
  where
    go : (c : Bool) → has_stray (concat (cond c (cell_units n) w)) ≡ false
    go true = ap has_stray (concat-units joined_byte (map Byte n)) ∙ clean-no_stray n new.clean
    go false = has_stray-left (concat w) (token_text ts) h

target-no_stray : (o n : List ℕ) → IsNewWord n → (us : List (List Cell)) → has_stray (concat us) ≡ false → has_stray (concat (renamed_units o n us)) ≡ false
target-no_stray o n new us h =
    ap has_stray (concat-token_units (tokens_renamed o n (tokens joined_byte us))) ∙ renamed-no_stray o n new (tokens joined_byte us) (ap has_stray (token_text-tokens joined_byte us) ∙ h)

filled-after : (a b : List ℕ) → is_empty a ≡ false → (v : ℕ) × (w : List ℕ) × (a ++ b ≡ v ∷ w)
filled-after [] b e = cc
filled-after (z ∷ a) b e = (z, a ++ b, refl)

-- if some piece is replaced, there are bytes
replaced-filled : (o n : List ℕ) → is_empty n ≡ false → (ts : List (Token Cell)) → list_any is_replaced (renamed_tokens o n ts) ≡ true → (x : ℕ) × (y : List ℕ) × (new_bytes (renamed_tokens o n ts) ≡ x ∷ y)
replaced-filled o n f [] h = cc
replaced-filled o n f (Gap u ∷ ts) h = let r = replaced-filled o n f ts h in not_empty-append (raw_text u) (new_bytes (renamed_tokens o n ts)) r.0 r.1 r.2
replaced-filled o n f (Word w ∷ ts) h = go (is_word_of o w) h (λ k. replaced-filled o n f ts k)
  where
    go : (c : Bool) → list_any is_replaced (cond c (Replace (concat w) n) (Keep (concat w)) ∷ renamed_tokens o n ts) ≡ true
        → (list_any is_replaced (renamed_tokens o n ts) ≡ true → (x : ℕ) × (y : List ℕ) × (new_bytes (renamed_tokens o n ts) ≡ x ∷ y))
        → (x : ℕ) × (y : List ℕ) × (new_bytes (cond c (Replace (concat w) n) (Keep (concat w)) ∷ renamed_tokens o n ts) ≡ x ∷ y)
    go true k i = filled-after n (new_bytes (renamed_tokens o n ts)) f
    go false k i = let r = i k in not_empty-append (raw_text (concat w)) (new_bytes (renamed_tokens o n ts)) r.0 r.1 r.2

-- the new line does not begin with the prefix
target-not_led : (o n : List ℕ) → is_empty n ≡ false → (prefix : ℕ) (us : List (List Cell)) (rest : List ℕ) → begins_renamed_line prefix (renamed_words o n us) ≡ false
    → is_prefix_led prefix (old_bytes (renamed_words o n us) ++ rest) ≡ false → is_prefix_led prefix (new_bytes (renamed_words o n us) ++ rest) ≡ false
target-not_led o n f prefix us rest h k = go (list_any is_replaced (renamed_words o n us)) refl
  where
    go : (c : Bool) → list_any is_replaced (renamed_words o n us) ≡ c → is_prefix_led prefix (new_bytes (renamed_words o n us) ++ rest) ≡ false
    go true e = let s = replaced-filled o n f (tokens joined_byte us) e in renamed-not_led prefix (renamed_words o n us) rest s.0 s.1 s.2 h k
    go false e = ap (λ z. is_prefix_led prefix (z ++ rest)) (none-replaced (renamed_words o n us) e) ∙ k

-- a line with other cells before a `:`: one line of these cells, with the same line end
line-before_colon : (l : List ℕ) (below : List (List ℕ)) (a b D : List Cell) → line_cells l ≡ a ++ Byte 58 ∷ D → AreLineCells (a ++ Byte 58 ∷ D) → AreLineCells (b ++ Byte 58 ∷ D) → OneLine l → EndsBefore l below
    → IsLineOf (raw_text (b ++ Byte 58 ∷ D) ++ line_end_bytes (line_end l)) (b ++ Byte 58 ∷ D) (line_end l) below
line-before_colon l below a b D e old new one ends =
    let end = line_end l in
    let cs = b ++ Byte 58 ∷ D in
    let tail : AreLineCells (Byte 58 ∷ D) = AreLineCells-right a (Byte 58 ∷ D) old in
    let apart : KeepsApart end (reverse (raw_text cs)) = KeepsApart-tail end a b (Byte 58) D refl tail.are_cells.0 (subst (λ z. KeepsApart end (reverse (raw_text z))) e (line-keeps_apart l)) in
    let stops : EndLineBefore end cs below = EndLineBefore-tail end a b (Byte 58) D below refl old new (subst (λ z. EndLineBefore end z below) e (line-ends l below one ends)) in
    let cell = some_cell b D (Byte 58) in
    let byte = some_raw cs cell.0 cell.1 cell.2 new in
    line-of_cells cs end below byte.0 (byte.1 ++ line_end_bytes end) new apart stops (ap (λ z. z ++ line_end_bytes end) byte.2)

-- ---- the line

-- The line of an assignment for targets after a rename: one line, which ends a line if lines follow, of class TargetAssign with
-- the new word in the place of the old.
pub target-renamed : (o n : List ℕ) → IsNewTarget o n → is_word o ≡ true → is_word n ≡ true → (a : Headers.TargetAssignment Cell) → AreRenamed o n (Class.TargetAssign a)
target-renamed o n new i j a c l below e one ends starts =
    let flag = nat_lt 0 c.conditionals in
    let cs = line_cells l in
    let led = is_prefix_led c.prefix l in
    let R : IsTargetRead led c.defines c.flag flag cs (units joined_byte cs) a = class_at-target led c.defines c.flag flag cs (units joined_byte cs) a e in
    let p : TargetParts flag (units joined_byte cs) a = target-parts led flag cs (units joined_byte cs) a R.here in
    let T = a.targets in
    let T' = renamed_units o n T in
    let X = p.first ∷ (p.rest ++ p.tail) in
    let D = concat (p.rest ++ p.tail) in
    let Y = Byte 58 ∷ D in
    let after : concat X ≡ Y = ap (λ z. z ++ D) (colon-is p.first p.colon) in
    let cells_are : cs ≡ concat T ++ Y = sym (concat-units joined_byte cs) ∙ (ap concat p.units_are ∙ (concat-append T X ∙ ap (λ z. concat T ++ z) after)) in
    let new_cs = concat T' ++ Y in
    let old : AreLineCells (concat T ++ Y) = subst AreLineCells cells_are (readable-are_line_cells l R.here.readable) in
    let tail : AreLineCells Y = AreLineCells-right (concat T) Y old in
    let cells : AreLineCells new_cs =
    line_cells-before_solid (concat T') Y (renamed-cells o n new.word T (AreLineCells-left (concat T) Y old)) tail (record { first = 58; rest = D; is = refl; no_blank = refl }) in
    let stray : has_stray (concat T ++ Y) ≡ false = ap has_stray (sym cells_are) ∙ or-left_false (has_stray cs) (has_bad_fold cs) R.here.readable in
    let readable : is_unreadable new_cs ≡ false =
    or_from (has_stray new_cs) (has_bad_fold new_cs) (has_stray-append (concat T') Y (target-no_stray o n new.word T (has_stray-left (concat T) Y stray)) (has_stray-right (concat T) Y stray)) cells.clean.1 in
    let ts = tokens joined_byte T in
    let again : units joined_byte new_cs ≡ T' ++ X =
    ap (λ z. units joined_byte (concat T' ++ z)) (sym after)
    ∙ (ap (λ z. units joined_byte (z ++ concat X)) (concat-token_units (tokens_renamed o n ts))
    ∙ units-renamed o n new.word ts cs [] X (tokens-are_tokens joined_byte T) (p.units_are ∙ ap (λ z. z ++ X) (sym (token_units-tokens joined_byte T))) (λ q. refl)) in
    let end = line_end_bytes (line_end l) in
    let m = raw_text new_cs ++ end in
    let line : IsLineOf m new_cs (line_end l) below = line-before_colon l below (concat T) (concat T') D cells_are old cells one ends in
    let ps = renamed_words o n T in
    let rest = raw_text Y ++ end in
    let split : (z : List Cell) → raw_text (z ++ Y) ++ end ≡ raw_text z ++ rest = λ z. ap (λ y. y ++ end) (raw_text-append z Y) ∙ append_assoc (raw_text z) (raw_text Y) end in
    let before : l ≡ old_bytes ps ++ rest =
    sym (without_line_end-line_end l)
    ∙ (ap (λ z. z ++ end) (sym (raw_text-cells (without_line_end l)) ∙ ap raw_text cells_are)
    ∙ (split (concat T) ∙ ap (λ z. z ++ rest) (ap raw_text (sym (renamed-old o n new.word T)) ∙ raw_text-old_cells ps))) in
    let made : m ≡ new_bytes ps ++ rest = split (concat T') ∙ ap (λ z. z ++ rest) (ap raw_text (sym (renamed-new o n new.word T)) ∙ raw_text-new_cells ps) in
    let not_led : is_prefix_led c.prefix m ≡ false =
    ap (is_prefix_led c.prefix) made ∙ target-not_led o n new.word.filled c.prefix T rest starts (ap (is_prefix_led c.prefix) (sym before) ∙ R.here.not_led) in
    let also : cells_class c false new_cs ≡ plain_class joined_byte false flag (is_unreadable new_cs) (units joined_byte new_cs) =
    ap (λ z. cells_class c z new_cs) (sym R.here.not_led) ∙ (R.also new_cs (units joined_byte new_cs) ∙ ap (λ z. plain_class joined_byte z flag (is_unreadable new_cs) (units joined_byte new_cs)) R.here.not_led) in
    let class : class_of c m ≡ TargetAssign (targets_renamed o n a) =
    ap (λ z. cells_class c z (line_cells m)) not_led
    ∙ (ap (cells_class c false) line.same_cells
    ∙ (also ∙ (ap (plain_class joined_byte false flag (is_unreadable new_cs)) again ∙ target-again flag (units joined_byte cs) a p T' new_cs (renamed-fit o n new i j flag cs a p) readable))) in
    record {
      rest = rest;
      is = before;
      one = subst OneLine made line.one;
      ends = subst (λ z. EndsBefore z below) made line.ends;
      class = ap (class_of c) (sym made) ∙ class;
    }
