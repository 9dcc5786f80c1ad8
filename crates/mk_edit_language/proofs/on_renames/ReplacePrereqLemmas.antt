-- An accepted replacement of a prerequisite puts the new word in the place of the old one in the header's lists, and no other item
-- changes.
use Rattle.std.proofs.Common.{◌≡◌, refl, sym, ap, ◌∙◌, ℕ, List, ◌∷◌, ◌++◌, Bool, length}
use Rattle.std.specs.Prelude.{nat_lt}
use Rattle.mk_lines.specs.Lists.{concat}
use Rattle.mk_lines.specs.Cells.{Cell, joined_byte, line_cells}
use Rattle.mk_lines.specs.Pieces.{replaced, new_cells, replacements}
use Rattle.mk_lines.specs.Words.{tokens}
use Rattle.mk_class.specs.Texts.{word_texts}
use Rattle.mk_class.specs.Headers
use Rattle.mk_class.specs.Headers.{header_units}
use Rattle.mk_class.specs.Classes.Class.{Header}
use Rattle.mk_class.specs.ClassedLines.{ClassedLine, classed_lines}
use Rattle.mk_tree.specs.LineTexts.{text_of, context_of}
use Rattle.mk_tree.proofs.on_documents.LinesInText.{line-in_text}
use Rattle.mk_tree.specs.Items
use Rattle.mk_tree.specs.Items.{header_item, raw_units}
use Rattle.mk_edit_language.specs.WordPieces.{renamed_words, replace_pieces, kept}
use Rattle.mk_edit_language.specs.Changes.{rename_words, with_prerequisite_replaced}
use Rattle.mk_edit_language.proofs.on_lines.DirectiveWords.{alike-itself}
use Rattle.mk_edit_language.proofs.on_lines.HeaderParts.{HeaderKnown, FitIn, with_parts}
use Rattle.mk_edit_language.proofs.on_lines.HeaderChanges.{header-cells, FitAsCells, header-here, same-not_led}
use Rattle.mk_edit_language.proofs.on_lines.LineReplaced.{IsLineReplaced, replaced-same}
use Rattle.mk_edit_language.proofs.on_prerequisites.HeaderEdits.{header_pieces-new, header_pieces-whole, kept-old, kept-new, header-replaced, fits-bar_again, lists-end, list-cells}
use Rattle.mk_edit_language.proofs.on_prerequisites.NewWords.{IsNewWord}
use Rattle.mk_edit_language.proofs.on_prerequisites.RemovePrereqLemmas.{glued-apart}
use Rattle.mk_edit_language.proofs.on_renames.RenamedHeaders.{renamed_units, renamed-parts, renamed-texts, renamed-cells, renamed-end, renamed-first_gap, renamed-last_gap, renamed-old, renamed-new}

module _ (o n : List ℕ) (word : IsNewWord n) (h : Headers.Header Cell) where
  -- the new lists
  abbrev new_normal : List (List Cell)
  new_normal = renamed_units o n h.normal

  abbrev new_order_only : List (List Cell)
  new_order_only = renamed_units o n h.order_only

  -- the header with the new word
  abbrev with_new : Headers.Header Cell
  with_new = with_parts h h.targets new_normal h.bar new_order_only

  replaced-fit : (c : Bool) (cs : List Cell) → HeaderKnown c cs h → FitIn h h.targets new_normal h.bar new_order_only
  replaced-fit c cs k = record {
    targets = k.targets;
    normal = renamed-parts o n word h.normal k.normal;
    order_only = renamed-parts o n word h.order_only k.order_only;
    bar_fits = fits-bar_again h.bar h.order_only new_order_only k.fits.bar_fits (λ e. ap (renamed_units o n) e);
    bar_apart = glued-apart h.normal new_normal h.bar h.order_only new_order_only (renamed-last_gap o n word h.normal) (renamed-first_gap o n word h.order_only) k.bar_apart;
    targets_apart = k.fits.targets_apart;
    alike = alike-itself (tokens joined_byte h.targets);
  }

  replaced-fit_cells : (c : Bool) (cs : List Cell) → HeaderKnown c cs h → FitAsCells h h.targets new_normal h.bar new_order_only
  replaced-fit_cells c cs k =
      let a = list-cells c cs h k in
      record {
        targets = a.targets;
        normal = renamed-cells o n word h.normal a.normal;
        order_only = renamed-cells o n word h.order_only a.order_only;
        ends = lists-end h.normal new_normal h.bar h.order_only new_order_only k.fits.bar_fits (λ e. ap (renamed_units o n) e) (λ e. renamed-end o n word h.normal k.normal) (renamed-end o n word h.order_only k.order_only);
      }

  replaced-pieces_new : new_cells (replace_pieces o n h) ≡ concat (header_units with_new)
  replaced-pieces_new =
      header_pieces-new h (kept h.targets) (renamed_words o n h.normal) (renamed_words o n h.order_only)
      ∙ (rw (kept-new h.targets, renamed-new o n word h.normal, renamed-new o n word h.order_only) (sym (header-cells with_new)))

  replaced-item : header_item with_new ≡ with_prerequisite_replaced o n (header_item h)
  replaced-item =
      let targets = word_texts joined_byte h.targets in
      let pattern = word_texts joined_byte h.pattern in
      let recipe = raw_units (Headers.inline_recipe joined_byte h) in
      ap (λ z. Items.Header targets h.separator pattern z (word_texts joined_byte new_order_only) recipe) (renamed-texts o n word h.normal)
      ∙ ap (λ z. Items.Header targets h.separator pattern (rename_words o n (word_texts joined_byte h.normal)) z recipe) (renamed-texts o n word h.order_only)

-- ---- the law

-- a header's line with a new word in the place of an old one
pub replace_prereq-line : (t : List ℕ) (A : List ClassedLine) (l : ClassedLine) (B : List ClassedLine) (h : Headers.Header Cell) (o n : List ℕ) → IsNewWord n → classed_lines t ≡ A ++ l ∷ B → l.class ≡ Header h
    → IsLineReplaced (replaced 0 t (replacements (length (text_of A)) (replace_pieces o n h))) A B (with_prerequisite_replaced o n (header_item h))
replace_prereq-line t A l B h o n word e k =
    let c = context_of A in
    let H = header-here c l.bytes h ((line-in_text t A l B e).class ∙ k) in
    let cond = nat_lt 0 c.conditionals in
    let N = renamed_units o n h.normal in
    let O = renamed_units o n h.order_only in
    replaced-same _ _ A B _ _ refl (replaced-item o n word h)
    (header-replaced t A l B h (replace_pieces o n h) h.targets N h.bar O e k
    (header_pieces-whole h (kept h.targets) (renamed_words o n h.normal) (renamed_words o n h.order_only) (kept-old h.targets) (renamed-old o n word h.normal) (renamed-old o n word h.order_only))
    (replaced-pieces_new o n word h) (replaced-fit o n word h cond (line_cells l.bytes) H.known) (replaced-fit_cells o n word h cond (line_cells l.bytes) H.known)
    (same-not_led c l.bytes h N h.bar O H))
