-- The line of an assignment that sets no recipe prefix: the text of its value, and the line without a word of its value.
use Rattle.std.proofs.Common.{◌≡◌, refl, sym, ap, ◌∙◌, subst, List, [], ◌∷◌, ◌++◌, Bool, true, false, map, append_assoc, None}
use Rattle.std.proofs.lemmas.List.{append-nil}
use Rattle.std.specs.Prelude.{ℕ, if◌then◌else◌}
use Rattle.mk_lines.specs.PhysicalLines.{line_end, line_end_bytes, without_line_end}
use Rattle.mk_lines.specs.Lists.{concat}
use Rattle.mk_lines.specs.Cells.{Cell, joined_byte, raw_text, line_cells}
use Rattle.mk_lines.specs.CellFaults.{has_stray, is_fold}
use Rattle.mk_lines.specs.Pieces.{Replace, Keep, old_bytes, old_cells}
use Rattle.mk_lines.specs.Units.{is_closed, units}
use Rattle.mk_lines.specs.Words.{words_in}
use Rattle.mk_lines.proofs.on_units.UnitLemmas.{is_closed-map}
use Rattle.mk_lines.proofs.on_lists.ListLemmas.{concat-append}
use Rattle.mk_lines.proofs.on_lists.PieceLemmas.{raw_text-old_cells, old_cells-append}
use Rattle.mk_lines.proofs.on_cells.CellLemmas.{raw_text-cells}
use Rattle.mk_lines.proofs.on_lines.LineEndLemmas.{without_line_end-line_end}
use Rattle.mk_class.specs.ListTests.{is_empty, last_passes}
use Rattle.mk_class.specs.Texts.{word_texts}
use Rattle.mk_class.specs.TextClasses.{itself}
use Rattle.mk_class.specs.Assignments.{Assignment, before_value}
use Rattle.mk_class.specs.Classes.Class.{Assign}
use Rattle.mk_class.specs.ClassTable.{class_of}
use Rattle.mk_class.specs.Contexts.{Context}
use Rattle.mk_class.specs.LocatedClasses.{located_class, located_assignment}
use Rattle.mk_class.specs.declared.assignment.Assignment as assignment
use Rattle.mk_class.specs.declared.class.Class.TheVariants as variants
use Rattle.mk_class.proofs.on_classes.ClassLemmas.{has_stray-left, has_stray-right}
use Rattle.mk_class.proofs.on_assignments.AssignmentLineLemmas.{AssignParts}
use Rattle.mk_tree.specs.LocatedLines.{LocatedLine}
use Rattle.mk_edit_language.specs.LineCauses.{ends_in_fold}
use Rattle.mk_edit_language.specs.ValueChanges.{led_words, staying, from_first_word, remove_word_pieces}
use Rattle.mk_edit_language.proofs.on_values.AppendValueLemmas.{value-units}
use Rattle.mk_edit_language.proofs.on_values.WordParts.{IsPart, value-led}
use Rattle.mk_edit_language.proofs.on_values.RemoveWordLemmas.{remove_word-old}
use Rattle.mk_edit_parts.specs.LineRanges.{ends_in_fold_located}
use Rattle.mk_edit_parts.specs.SeenAssignments.{IsAssignmentAt, IsAssignmentSeen}
use Rattle.mk_edit_parts.specs.ValuePieces.{line_without_pieces}
use Rattle.mk_edit_parts.proofs.on_prerequisites.WordRangeLemmas.{part-words}
use Rattle.mk_edit_parts.proofs.on_values.ValueCells.{assign-parts, assign-no_stray, value-cells}
use Rattle.mk_edit.specs.ValueChangeLines.{value_text_located}
use Rattle.mk_edit.proofs.on_values.ValuePlaces.{assignment-located}

-- ---- the text of the value

-- the text of an assignment's value tells whether the value is empty, whether it is closed, and its words
pub record IsValueText (a : Assignment Cell) (text : List ℕ) : Type 0 where
  pub text_is : text ≡ map joined_byte (concat a.value)
  pub empty_is : is_empty text ≡ is_empty a.value
  pub closed_is : is_closed (λ b. b) text ≡ is_closed joined_byte (concat a.value)
  pub words_are : words_in text ≡ word_texts joined_byte a.value

empty-units : (us : List (List Cell)) (text : List ℕ) → text ≡ map joined_byte (concat us) → units itself text ≡ map (map joined_byte) us → is_empty text ≡ is_empty us
empty-units [] text h k = ap is_empty h
empty-units (u ∷ us) (b ∷ text) h k = refl
empty-units (u ∷ us) [] h k = absurd (cc)

-- the pieces of the line without a word are the whole line
line-old : (w : List ℕ) (a : Assignment Cell) (r : List Cell) → from_first_word (led_words a.value) ≡ a.value → old_cells (line_without_pieces w a r) ≡ concat (before_value a) ++ (concat a.value ++ (concat a.after ++ r))
line-old w a r h = ap (λ z. concat (before_value a) ++ z) (go (is_empty (staying w (led_words a.value))))
  where
    go : (b : Bool) → old_cells (if b then Replace (concat (a.value ++ a.after)) [] ∷ Keep r ∷ [] else remove_word_pieces w (led_words a.value) ++ Keep (concat a.after ++ r) ∷ []) ≡ concat a.value ++ (concat a.after ++ r)
    go true =
        ap (λ z. concat (a.value ++ a.after) ++ z) (append-nil r)
        ∙ (ap (λ z. z ++ r) (concat-append a.value a.after) ∙ append_assoc (concat a.value) (concat a.after) r)
    go false =
        old_cells-append (remove_word_pieces w (led_words a.value)) (Keep (concat a.after ++ r) ∷ [])
        ∙ (ap (λ z. z ++ ((concat a.after ++ r) ++ [])) (remove_word-old w (led_words a.value) ∙ ap concat h) ∙ ap (λ z. concat a.value ++ z) (append-nil (concat a.after ++ r)))

-- ---- the line

-- the line of these bytes that assigns so, as a document shows it
abbrev pub own_line : (m : List ℕ) → Assignment Cell → LocatedLine
own_line m a = record { bytes = m; class = located_class joined_byte (Assign a None) }

module _ (x : Context) (m : List ℕ) (a : Assignment Cell) (here : class_of x m ≡ Assign a None) where
  pub own-text : (text : List ℕ) → text ≡ value_text_located (own_line m a) → IsValueText a text
  own-text text shown =
      let V = (assignment-located x m a here).value in
      let is : text ≡ map joined_byte (concat a.value) = shown ∙ V.text_is in
      record {
        text_is = is;
        empty_is = empty-units a.value text is (ap (units itself) shown ∙ V.units_are);
        closed_is = ap (is_closed (λ b. b)) is ∙ is_closed-map joined_byte (λ b. b) (concat a.value);
        words_are = ap words_in shown ∙ part-words _ _ _ _ a.value V;
      }

  pub own-fold : ends_in_fold_located (own_line m a) ≡ ends_in_fold a
  own-fold = ap (last_passes is_fold) (value-cells x m a None here)

  -- the parts of the line, and the cells after the assignment
  pub own-parts : AssignParts m a
  own-parts = assign-parts x m a None here

  abbrev pub own_rest : List Cell
  own_rest = concat own-parts.rest

  own-cells : line_cells m ≡ concat (before_value a) ++ (concat a.value ++ (concat a.after ++ own_rest))
  own-cells = own-parts.cells_are ∙ ap (λ z. concat (before_value a) ++ (concat a.value ++ z)) (concat-append a.after own-parts.rest)

  pub own-seen : (at : assignment.Assignment) → IsAssignmentAt (own_line m a) at → IsAssignmentSeen (own_line m a) at a own_rest
  own-seen at q =
      let same : variants.Assign at q.prefix ≡ variants.Assign (located_assignment 0 a) None = sym q.class_is in
      let offsets : at ≡ located_assignment 0 a = cc in
      let own : IsAssignmentSeen (own_line m a) (located_assignment 0 a) a own_rest = record { cells_are = own-cells; offsets_are = refl; located = assignment-located x m a here } in
      subst (λ z. IsAssignmentSeen (own_line m a) z a own_rest) (sym offsets) own

  -- the words of a closed value, with the blanks and folds between them, are the value
  value-whole : is_closed joined_byte (concat a.value) ≡ true → from_first_word (led_words a.value) ≡ a.value
  value-whole c =
      let p = own-parts in
      let k = value-units m a p in
      let B = concat (before_value a) in
      let Q = concat (a.after ++ p.rest) in
      let clean : has_stray (B ++ (concat a.value ++ Q)) ≡ false = subst (λ z. has_stray z ≡ false) p.cells_are (assign-no_stray x m a None here) in
      let part : IsPart a.value = record { units_are = k.units_are; closed = c; no_hash = k.no_hash; no_stray = has_stray-left (concat a.value) Q (has_stray-right B (concat a.value ++ Q) clean) } in
      (value-led a.value part p.is.are_value.begins p.is.are_value.ends).whole

  -- the pieces of the line without a word of a closed value, before the word goes, and the line end are the line
  pub own-whole : (w : List ℕ) → is_closed joined_byte (concat a.value) ≡ true → m ≡ old_bytes (line_without_pieces w a own_rest) ++ line_end_bytes (line_end m)
  own-whole w c =
      let ps = line_without_pieces w a own_rest in
      let cells : line_cells m ≡ old_cells ps = own-cells ∙ sym (line-old w a own_rest (value-whole c)) in
      sym (without_line_end-line_end m) ∙ ap (λ z. z ++ line_end_bytes (line_end m)) (sym (raw_text-cells (without_line_end m)) ∙ (ap raw_text cells ∙ raw_text-old_cells ps))
