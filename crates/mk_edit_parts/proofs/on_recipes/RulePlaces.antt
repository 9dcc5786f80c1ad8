-- The rule that an edit means, as it stands in a document: its header, and the lines below.
use Rattle.std.proofs.Common.{◌≡◌, sym, ap, ◌∙◌, ℕ, ◌+◌, ◌≤◌, List, [], length, Option, Some, None}
use Rattle.std.specs.Prelude.{nat_lt, slice_get}
use Rattle.mk_lines.specs.Cells.{Cell, joined_byte, joined_text, line_cells}
use Rattle.mk_class.specs.Headers
use Rattle.mk_class.specs.Classes.Class.{Header}
use Rattle.mk_class.specs.LocatedClasses.{located_class}
use Rattle.mk_class.specs.Contexts.{Context}
use Rattle.mk_class.specs.ClassTable.{class_of}
use Rattle.mk_class.specs.ClassedLines.{ClassedLine, classed_lines}
use Rattle.mk_class.proofs.on_classes.LinePartLemmas.{line-parts_located}
use Rattle.mk_tree.specs.Documents.{IsFaithful}
use Rattle.mk_tree.specs.LocatedLines.{LocatedLine, located_line, located_text}
use Rattle.mk_tree.specs.RecipeLines.{recipe_run}
use Rattle.mk_tree.specs.LineTexts.{StandingLine}
use Rattle.mk_edit_language.specs.Addresses.{Rule, found, targets_of}
use Rattle.mk_edit_language.specs.AddressCauses.{no_such_line, ambiguous_line}
use Rattle.mk_edit_language.specs.Causes.{where_holds}
use Rattle.mk_edit_language.specs.RuleCauses.{class_found, class_meant, targets_found, shared_by}
use Rattle.mk_edit_language.proofs.on_edits.Accepted.{where_holds-none}
use Rattle.mk_edit_language.proofs.on_lines.SpotLemmas.{rule-found}
use Rattle.mk_edit_language.specs.declared.refusal.Refusal.TheVariants.{NoSuch, SharedRule}
use Rattle.mk_edit_parts.specs.Found.{IsFoundAt}
use Rattle.mk_edit_parts.specs.RecipeWalks.{lines_from, header_targets_in, header_targets_located}
use Rattle.mk_edit_parts.specs.declared.seek.Found.{Found}
use Rattle.mk_edit_parts.proofs.on_finding.PartLemmas.{words-part}
use Rattle.mk_edit_parts.proofs.on_finding.PlaceLemmas.{IsLineAt, line-at}
use Rattle.mk_edit_parts.proofs.on_new_lines.NewLinePlaces.{found-below, recipe-within}

-- what is known of a document where the header of a rule stands
pub record IsRuleAt (ls : List LocatedLine) (nth : Option ℕ) (g : List ℕ) (f : Found) : Type 0 where
  pub spot : StandingLine
  pub found_is : found (classed_lines (located_text ls)) (Rule nth g) ≡ Some spot
  pub line : IsLineAt ls f spot
  pub place_is : length spot.above ≡ f.at
  pub header : Headers.Header Cell
  pub class_is : spot.line.class ≡ Header header
  -- the lines of the text below it
  pub below_is : lines_from ls (f.at + 1) ≡ spot.below

pub rule-at : (ls : List LocatedLine) (nth : Option ℕ) (g : List ℕ) (f : Found) → IsFaithful ls → no_such_line (classed_lines (located_text ls)) (Some (Rule nth g)) ≡ None
    → ambiguous_line (classed_lines (located_text ls)) (Some (Rule nth g)) ≡ None → IsFoundAt (classed_lines (located_text ls)) (Rule nth g) f → IsRuleAt ls nth g f
rule-at ls nth g f h there one F =
    let lines = classed_lines (located_text ls) in
    let s = F.spot in
    let L = line-at ls (Rule nth g) f h F in
    let R = rule-found lines nth g (where_holds-none _ NoSuch there) (where_holds-none _ _ one) in
    let q : Some R.spot ≡ Some s = sym R.found_is ∙ F.found_is in
    let same : R.spot ≡ s = cc in
    let k : s.line.class ≡ Header R.header = ap (λ (z : StandingLine). z.line.class) (sym same) ∙ R.class_is in
    record {
      spot = s;
      found_is = F.found_is;
      line = L;
      place_is = F.place_is;
      header = R.header;
      class_is = k;
      below_is = found-below ls (Rule nth g) f F;
    }

-- the recipe of the rule ends within the document
pub rule-within : (ls : List LocatedLine) (nth : Option ℕ) (g : List ℕ) (f : Found) → IsFaithful ls → IsRuleAt ls nth g f → f.at + 1 + length (recipe_run (lines_from ls (f.at + 1))) ≤ length ls
rule-within ls nth g f h R =
    recipe-within ls (Rule nth g) f h (record { spot = R.spot; found_is = R.found_is; place_is = R.place_is; context_is = R.line.context_is })

-- ---- the targets of its header

header-targets : (c : Context) (l : ClassedLine) (x : Headers.Header Cell) → class_of c l.bytes ≡ l.class → l.class ≡ Header x → header_targets_located (located_line l) ≡ targets_of l.class
header-targets c l x h k =
    let P = line-parts_located c l.bytes (located_class joined_byte (Header x)) (ap (located_class joined_byte) (sym (h ∙ k))) in
    ap (header_targets_in (joined_text (line_cells l.bytes))) (ap (located_class joined_byte) k) ∙ (words-part (line_cells l.bytes) _ [] P.0.targets P.2.targets ∙ ap targets_of (sym P.1 ∙ h))

-- whether the rule has several targets
pub shared-told : (ls : List LocatedLine) (nth : Option ℕ) (g : List ℕ) (f : Found) (l : LocatedLine) (n : ℕ) → IsRuleAt ls nth g f → Some l ≡ slice_get ls f.at → n ≡ length (header_targets_located l)
    → shared_by (targets_found (class_meant (classed_lines (located_text ls)) (Rule nth g))) ≡ where_holds (nat_lt 1 n) (SharedRule n)
shared-told ls nth g f l n R h k =
    let s = R.spot in
    let q : Some l ≡ Some (located_line s.line) = h ∙ R.line.line_is in
    let same : l ≡ located_line s.line = cc in
    let m : n ≡ length (targets_of s.line.class) = k ∙ (ap (λ (z : LocatedLine). length (header_targets_located z)) same ∙ ap length (header-targets f.context s.line R.header R.line.class_is R.class_is)) in
    ap (λ (o : Option StandingLine). shared_by (targets_found (class_found o))) R.found_is ∙ ap (λ n. where_holds (nat_lt 1 n) (SharedRule n)) (sym m)
