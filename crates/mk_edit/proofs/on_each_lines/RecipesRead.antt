-- A recipe line that is changed and read again: whether it reads as stated.
use Rattle.std.proofs.Common.{◌≡◌, refl, sym, ap, ◌∙◌, subst, arith, ℕ, zero, suc, ◌+◌, ◌*◌, ◌<◌, ◌≤◌, Bool, true, not, ◌&&◌, List, [], ◌∷◌, map, length, length-append}
use Rattle.std.specs.List.{list_any}
use Rattle.std.specs.Str.{bytes_eq}
use Rattle.std.proofs.lemmas.Bool.{ltb-true}
use Rattle.std.proofs.lemmas.List.{length-drop}
use Rattle.mk_lines.specs.Cells.{Byte, Cell, raw_text}
use Rattle.mk_lines.specs.PhysicalLines.{line_end, line_end_bytes, without_line_end}
use Rattle.mk_lines.specs.Pieces.{new_bytes, old_bytes, replaced, replacements}
use Rattle.mk_lines.proofs.on_cells.CellLemmas.{raw_text-bytes}
use Rattle.mk_lines.proofs.on_lines.LineEndLemmas.{without_line_end-line_end}
use Rattle.mk_lines.proofs.on_lists.PieceLemmas.{raw_text-old_cells}
use Rattle.mk_class.specs.Classes.{Class, is_recipe}
use Rattle.mk_class.specs.Classes.Class.{Recipe}
use Rattle.mk_class.specs.ClassTable.{class_of}
use Rattle.mk_class.specs.Contexts.{Context}
use Rattle.mk_tree.specs.LineTexts.{line_in}
use Rattle.mk_tree.specs.LocatedLines.{located_line}
use Rattle.mk_edit_language.specs.EachLine.{InRecipe, change_pieces, each_bytes, is_each_changed, reads_as_recipe, recipe_after, recipe_pieces, recipe_text, recipe_text_pieces}
use Rattle.mk_edit_language.specs.Lengths.{bytes_taken}
use Rattle.mk_edit_language.specs.LineChanges.{fits_line}
use Rattle.mk_edit_language.specs.RisingSpans.{Rise}
use Rattle.mk_edit_language.specs.WordPieces.{is_replaced}
use Rattle.mk_edit_language.proofs.on_each_line.EachLineSpans.{marked-rises}
use Rattle.mk_edit_language.proofs.on_edits.LengthLemmas.{length-replaced}
use Rattle.mk_edit_language.proofs.on_edits.RisingSpanLemmas.{Rise-pieces}
use Rattle.mk_edit_parts.specs.RecipeChanges.{line_end_length, reads_as_stated, recipe_ranges, stated_text}
use Rattle.mk_edit_parts.specs.RenamedRanges.{bytes_in}
use Rattle.mk_edit_parts.proofs.on_finding.LeanLemmas.{asked}
use Rattle.mk_edit_parts.proofs.on_line_changes.WordsAndTexts.{texts-old}
use Rattle.mk_edit_parts.proofs.on_recipes.RecipesChanged.{recipe-changed, recipe-pieces, stated-made}
use Rattle.mk_edit_parts.proofs.on_renaming.WrittenLemmas.{apart-bytes, apart-rise}
use Rattle.mk_edit.specs.LineChangePlans.{is_changed_misread, meant_in}
use Rattle.mk_edit.proofs.on_renaming.SizesOfWords.{taken-replacing}
use Rattle.mk_edit.proofs.on_each_lines.LinesCounted.{recipe-width}

module _ (x : Context) (l f t : List ℕ) (some : 1 ≤ length f) (class : class_of x l ≡ Recipe) (changed : is_each_changed (InRecipe f t) (meant_in x l) ≡ true) where
  -- the line after the change
  recipe-is : each_bytes (InRecipe f t) (meant_in x l) ≡ recipe_after f t l
  recipe-is = ap (λ (k : Class Cell). replaced 0 l (replacements 0 (change_pieces (InRecipe f t) k l))) class

  found : 1 ≤ length (recipe_ranges f l)
  found =
      let e : list_any is_replaced (recipe_pieces f t l) ≡ true = ap (λ (k : Class Cell). list_any is_replaced (change_pieces (InRecipe f t) k l)) (sym class) ∙ changed in
      let z = ltb-true 0 (length (recipe_ranges f l)) (recipe-changed f some t l ∙ e) in
      omega (arith, z)

  module _ (m : List ℕ) (made : m ≡ recipe_after f t l) where
    abbrev stated : List ℕ
    stated = new_bytes (recipe_text_pieces f t l)

    misread-by : (b d : Bool) → fits_line l m ≡ b → reads_as_recipe stated m (class_of x m) ≡ d → is_changed_misread (InRecipe f t) x l ≡ not (b && d)
    misread-by b d h k =
        ap (λ z. not (fits_line l z && reads_as_recipe stated z (class_of x z))) (sym made)
        ∙ (ap (λ z. not (z && reads_as_recipe stated m (class_of x m))) h ∙ ap (λ z. not (b && z)) k)

    -- where it fits, it is misread where it does not read as stated
    read-is : reads_as_stated l (located_line (line_in x m)) ≡ reads_as_recipe stated m (class_of x m)
    read-is =
        ap (λ b. b && bytes_eq (recipe_text m) (slice_stated m)) (asked (class_of x m)).recipe_is
        ∙ ap (λ z. is_recipe (class_of x m) && bytes_eq (recipe_text m) z) (ap slice_stated made ∙ stated-made f some t l found)
      where
        slice_stated : List ℕ → List ℕ
        slice_stated z = stated_text l z

    pub recipe-read : (b : Bool) → fits_line l m ≡ true → reads_as_stated l (located_line (line_in x m)) ≡ b → is_changed_misread (InRecipe f t) x l ≡ not b
    recipe-read b h k = misread-by true b h (sym read-is ∙ k)

    -- it is longer than its line end
    pub recipe-ended : line_end_length l < length m
    recipe-ended =
        let ps = recipe_pieces f t l in
        let rs = replacements 0 ps in
        let w = without_line_end l in
        let rise : Rise 0 (0 + length l) rs = subst (λ (k : Class Cell). Rise 0 (0 + length l) (replacements 0 (change_pieces (InRecipe f t) k l))) class (marked-rises (InRecipe f t) x (meant_in x l) 0 refl) in
        let size = length-replaced 0 (0 + length l) l rs rise refl in
        let old : old_bytes (recipe_text_pieces f t l) ≡ recipe_text l =
        sym (raw_text-old_cells (recipe_text_pieces f t l)) ∙ (ap raw_text (texts-old f t 0 (map Byte (recipe_text l)) some) ∙ raw_text-bytes (recipe_text l)) in
        let within = apart-bytes 1 (1 + length (recipe_text l)) (recipe_ranges f l) (apart-rise 1 (1 + length (recipe_text l)) t (recipe_ranges f l)
        (subst (Rise 1 (1 + length (recipe_text l))) (sym (recipe-pieces f some t l ∙ start))
        (subst (λ z. Rise 1 (1 + length z) (replacements 1 (recipe_text_pieces f t l))) old (Rise-pieces 1 (recipe_text_pieces f t l))))) in
        let taken : bytes_taken rs ≡ bytes_in (recipe_ranges f l) = ap bytes_taken (sym (recipe-pieces f some t l)) ∙ taken-replacing t (recipe_ranges f l) in
        let whole : length w + length (line_end_bytes (line_end l)) ≡ length l = sym (length-append w (line_end_bytes (line_end l))) ∙ ap length (without_line_end-line_end l) in
        omega (arith, size, within, taken, whole, length-drop 1 w, recipe-width f l, filled (length (recipe_ranges f l)) (length f) found some, ap length made, ap length recipe-is)
      where
        first : (z : List ℕ) → replacements 0 (recipe_pieces f t z) ≡ replacements 1 (recipe_text_pieces f t z)
        first [] = refl
        first (b ∷ z) = refl

        start : replacements 0 (recipe_pieces f t l) ≡ replacements 1 (recipe_text_pieces f t l)
        start = first l

        filled : (n k : ℕ) → 1 ≤ n → 1 ≤ k → 1 ≤ n * k
        filled zero k h i = absurd (omega (arith, h))
        filled (suc n) k h i = omega (arith, i)
