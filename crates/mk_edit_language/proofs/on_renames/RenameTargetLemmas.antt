-- The reading law of a rename: each target and prerequisite that is the old word is the new one, and no other item changes.
use Rattle.std.proofs.Common.{◌≡◌, sym, ap, ◌∙◌, ℕ, List, false, not, ◌||◌}
use Rattle.std.proofs.lemmas.Bool.{and_parts, or_parts, not-true}
use Rattle.std.specs.Prelude.{Ok}
use Rattle.mk_lines.specs.Pieces.{Replacement, replaced}
use Rattle.mk_lines.specs.Cells.{Cell}
use Rattle.mk_class.specs.ListTests.{last_passes}
use Rattle.mk_class.specs.Keywords.{is_reserved_word}
use Rattle.mk_class.specs.Classes.{Class}
use Rattle.mk_class.specs.Arguments.{is_word, is_target, is_ampersand_byte}
use Rattle.mk_tree.specs.Readings.{reading}
use Rattle.mk_edit_language.specs.Edits.{RenameTarget}
use Rattle.mk_edit_language.specs.Refusals.{spans, text_by, text_after}
use Rattle.mk_edit_language.specs.Changes.{change}
use Rattle.mk_edit_language.proofs.on_edits.Accepted.{accepted, where_holds-none, two-passed}
use Rattle.mk_edit_language.proofs.on_prerequisites.NewWords.{word-is_new, target-no_ampersand}
use Rattle.mk_edit_language.proofs.on_renames.RenamedHeaders.{IsNewTarget}
use Rattle.mk_edit_language.proofs.on_renames.RenamedTexts.{AreRenamed, class-renamed, reading-renamed}
use Rattle.mk_edit_language.proofs.on_renames.RenamedTargets.{target-renamed}
use Rattle.mk_edit_language.specs.declared.refusal.Field.TheVariants as field
use Rattle.mk_edit_language.specs.declared.refusal.Refusal.TheVariants.{Reserved, RecipePrefix}

-- what is known of the words of a rename
pub record AreRenameTargetWords (o n : List ℕ) : Type 0 where
  pub new : IsNewTarget o n
  pub renamed : (k : Class Cell) → AreRenamed o n k

-- this is known of the words of an accepted rename
pub rename_target-words : (o n t : List ℕ) (rs : List Replacement) → spans t (RenameTarget o n) ≡ Ok rs → AreRenameTargetWords o n
rename_target-words o n t rs h =
    let A = accepted t (RenameTarget o n) rs h in
    let fields = two-passed field.Old field.New (is_target o) (is_target n) A.arguments in
    let old = and_parts (is_word o) (not (last_passes is_ampersand_byte o)) fields.0 in
    let word = and_parts (is_word n) (not (last_passes is_ampersand_byte n)) fields.1 in
    let free = or_parts (is_reserved_word o) (is_reserved_word n || false) (where_holds-none (is_reserved_word o || (is_reserved_word n || false)) Reserved A.not_reserved) in
    let new : IsNewTarget o n = record {
      word = word-is_new n word.0;
      no_ampersand = target-no_ampersand n (not-true (last_passes is_ampersand_byte n) word.1);
      old_free = free.0;
      new_free = (or_parts (is_reserved_word n) false free.1).0;
    } in
    record { new = new; renamed = class-renamed o n new (target-renamed o n new old.0 word.0) }

-- the law of a rename
pub rename_target-reads : (o n t : List ℕ) (rs : List Replacement) → spans t (RenameTarget o n) ≡ Ok rs → reading (text_after t (RenameTarget o n)) ≡ change t (RenameTarget o n)
rename_target-reads o n t rs h =
    let A = accepted t (RenameTarget o n) rs h in
    let W = rename_target-words o n t rs h in
    ap (λ q. reading (text_by t q)) h
    ∙ (ap (λ q. reading (replaced 0 t q)) (sym A.spans_are) ∙ reading-renamed o n W.new W.renamed t (where_holds-none _ RecipePrefix A.well_placed))
