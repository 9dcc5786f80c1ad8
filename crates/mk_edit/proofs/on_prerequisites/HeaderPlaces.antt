-- The line of the rule that an edit means, with the parts of its header.
use Rattle.std.proofs.Common.{◌≡◌, sym, ap, ◌∙◌, subst, ℕ, List, Option, Some}
use Rattle.std.specs.Prelude.{slice_get}
use Rattle.mk_lines.specs.Cells.{Cell, joined_byte, line_cells}
use Rattle.mk_class.specs.Headers
use Rattle.mk_class.specs.Classes.Class.{Header}
use Rattle.mk_class.specs.LocatedClasses.{located_class, located_header}
use Rattle.mk_class.specs.ClassTable.{class_of}
use Rattle.mk_class.specs.LineParts.{IsHeaderLocated}
use Rattle.mk_class.specs.declared.rule.Header as header
use Rattle.mk_class.specs.declared.class.Class.TheVariants as variants
use Rattle.mk_class.proofs.on_classes.LinePartLemmas.{line-parts_located}
use Rattle.mk_tree.specs.LocatedLines.{LocatedLine, located_line}
use Rattle.mk_edit_language.proofs.on_lines.HeaderChanges.{header-here}
use Rattle.mk_edit_parts.specs.SeenHeaders.{IsHeaderSeen, IsHeaderAt, IsRuleLine}
use Rattle.mk_edit_parts.specs.declared.seek.Found.{Found}
use Rattle.mk_edit_parts.proofs.on_recipes.RulePlaces.{IsRuleAt}

-- the line of a document where the header of a rule stands
pub rule-line : (ls : List LocatedLine) (nth : Option ℕ) (g : List ℕ) (f : Found) (l : LocatedLine) → (R : IsRuleAt ls nth g f) → Some l ≡ slice_get ls f.at → l ≡ located_line R.spot.line
rule-line ls nth g f l R k = let q : Some l ≡ Some (located_line R.spot.line) = k ∙ R.line.line_is in cc

-- such a line has the offsets of the header's parts
rule-located : (ls : List LocatedLine) (nth : Option ℕ) (g : List ℕ) (f : Found) (l : LocatedLine) → (R : IsRuleAt ls nth g f) → Some l ≡ slice_get ls f.at → l.class ≡ variants.Header (located_header joined_byte R.header)
rule-located ls nth g f l R k = ap (λ (z : LocatedLine). z.class) (rule-line ls nth g f l R k) ∙ ap (located_class joined_byte) R.class_is

-- such a line is the line of a rule
pub rule-class : (ls : List LocatedLine) (nth : Option ℕ) (g : List ℕ) (f : Found) (l : LocatedLine) → IsRuleAt ls nth g f → Some l ≡ slice_get ls f.at → IsRuleLine l
rule-class ls nth g f l R k = record { offsets = located_header joined_byte R.header; class_is = rule-located ls nth g f l R k }

-- such a line has the parts of the header, as the code sees them
pub header-seen : (ls : List LocatedLine) (nth : Option ℕ) (g : List ℕ) (f : Found) (l : LocatedLine) (at : header.Header) → (R : IsRuleAt ls nth g f) → Some l ≡ slice_get ls f.at → IsHeaderAt l at → IsHeaderSeen l at R.header
header-seen ls nth g f l at R k p =
    let h = R.header in
    let m = R.spot.line.bytes in
    let same = rule-line ls nth g f l R k in
    let here : class_of f.context m ≡ Header h = R.line.class_is ∙ R.class_is in
    let H = header-here f.context m h here in
    let shown : variants.Header at ≡ variants.Header (located_header joined_byte h) = sym p ∙ rule-located ls nth g f l R k in
    let offsets : at ≡ located_header joined_byte h = cc in
    let P = line-parts_located f.context m (variants.Header at) (shown ∙ ap (located_class joined_byte) (sym here)) in
    let e : Header P.0 ≡ Header h = sym P.1 ∙ here in
    let own : P.0 ≡ h = cc in
    subst (λ (z : LocatedLine). IsHeaderSeen z at h) (sym same) (record {
      cells_are = H.known.cells_are;
      whole = H.whole;
      offsets_are = offsets;
      located = subst (λ (z : Headers.Header Cell). IsHeaderLocated (line_cells m) at z) own P.2;
      fits = H.known.fits;
    })
