-- What `==` answers of two edits, of two places and of two changes: whether they are the same.
use Rattle.std.proofs.Common.{◌≡◌, ap, sym, ℕ, List, Bool, true, false, Option, Some, None, Vec, ◌&&◌, refl}
use Rattle.std.specs.Bool.{Decides}
use Rattle.std.specs.Option.{option_eq}
use Rattle.std.specs.Prelude.{nat_eq}
use Rattle.std.specs.Str.{bytes_eq}
use Rattle.std.proofs.lemmas.Bool.Decides.{Decides-and, Decides-eqb, Decides-like}
use Rattle.std.proofs.lemmas.Slice.Eq.{bytes_eq-Decides}
use Rattle.std.specs.declared.alloc.Allocator as alloc
use mathlib.Core.Bool.{beq}
use denote.RattleType.{RattleType}
use mir.Syntax.{Dict}
use Rattle.mk_class.specs.declared.assignment.Flavor.{Flavor}
use Rattle.mk_class.specs.declared.assignment.Flavor.TheVariants.{Recursive, Simple, PosixSimple, Immediate, Conditional, Append, Shell}
use Rattle.mk_class.specs.contracts.assignment.FlavorPartialEq.TheImpl as flavors
use Rattle.mk_edit_language.specs.EditViews.{each_edit_of, edit_of, line_change_of, lines_of, place_of, site_of, value_change_of}
use Rattle.mk_edit_language.specs.LineRuns.{block_lines}
use Rattle.mk_edit_language.proofs.on_line_runs.BlockTexts.{block-same, block-some}
use Rattle.mk_edit_language.specs.declared.edit.RuleSeparator.{RuleSeparator}
use Rattle.mk_edit_language.specs.declared.edit.RuleSeparator.TheVariants.{Single, Double}
use Rattle.mk_edit_language.specs.declared.edit.Place.{Place}
use Rattle.mk_edit_language.specs.declared.edit.Place.TheVariants as place
use Rattle.mk_edit_language.specs.declared.edit.Site.{Site}
use Rattle.mk_edit_language.specs.declared.edit.Site.TheVariants as site
use Rattle.mk_edit_language.specs.declared.edit.ValueChange.{ValueChange}
use Rattle.mk_edit_language.specs.declared.edit.ValueChange.TheVariants as change
use Rattle.mk_edit_language.specs.declared.edit.Side.{Side}
use Rattle.mk_edit_language.specs.declared.edit.Side.TheVariants.{Before, After}
use Rattle.mk_edit_language.specs.declared.edit.LineChange.{LineChange}
use Rattle.mk_edit_language.specs.declared.edit.LineChange.TheVariants as line
use Rattle.mk_edit_language.specs.declared.edit.EachEdit.{EachEdit}
use Rattle.mk_edit_language.specs.declared.edit.EachEdit.TheVariants as each
use Rattle.mk_edit_language.specs.declared.edit.Edit.{Edit}
use Rattle.mk_edit_language.specs.declared.edit.Edit.TheVariants as edit
use Rattle.mk_edit_language.specs.contracts.edit.RuleSeparatorPartialEq.TheImpl as separators
use Rattle.mk_edit_language.specs.contracts.edit.PlacePartialEq.TheImpl as places
use Rattle.mk_edit_language.specs.contracts.edit.SitePartialEq.TheImpl as site_eq
use Rattle.mk_edit_language.specs.contracts.edit.ValueChangePartialEq.TheImpl as changes
use Rattle.mk_edit_language.specs.contracts.edit.SidePartialEq.TheImpl as sides
use Rattle.mk_edit_language.specs.contracts.edit.LineChangePartialEq.TheImpl as lines
use Rattle.mk_edit_language.specs.contracts.edit.EachEditPartialEq.TheImpl as each_edits
use Rattle.mk_edit_language.specs.contracts.edit.EditPartialEq.TheImpl as edits

-- a test of what holds, and of what does not
yes : {P : Type 0} → P → Decides true P
yes p = (λ _. p, λ _. refl)

no : {P : Type 0} → (P → ⊥) → Decides false P
no p = (λ h. cc, λ h. absurd (p h))

-- two tests, one after the other
also : {P Q : Type 0} → {x y : Bool} → Decides x P → Decides y Q → Decides (x && y) (P × Q)
also {x = x} {y = y} p q = Decides-and x y p q

-- the parts that edits have beside their texts
number-decides : (k l : Option ℕ) → Decides (option_eq nat_eq k l) (k ≡ l)
number-decides None None = yes refl
number-decides None (Some y) = no (λ h. cc)
number-decides (Some x) None = no (λ h. cc)
number-decides (Some x) (Some y) = Decides-like _ (λ h. cc) (λ h. cc) (Decides-eqb x y)

order-decides : (i j : Bool) → Decides (beq i j) (i ≡ j)
order-decides true true = yes refl
order-decides true false = no (λ h. cc)
order-decides false true = no (λ h. cc)
order-decides false false = yes refl

separator-decides : (a b : RuleSeparator) → Decides (separators.ghosts.eq a b) (a ≡ b)
separator-decides Single Single = yes refl
separator-decides Double Double = yes refl
separator-decides a b = no (λ h. cc)

side-decides : (a b : Side) → Decides (sides.ghosts.eq a b) (a ≡ b)
side-decides Before Before = yes refl
side-decides After After = yes refl
side-decides a b = no (λ h. cc)

flavor-decides : (a b : Flavor) → Decides (flavors.ghosts.eq a b) (a ≡ b)
flavor-decides Recursive Recursive = yes refl
flavor-decides Simple Simple = yes refl
flavor-decides PosixSimple PosixSimple = yes refl
flavor-decides Immediate Immediate = yes refl
flavor-decides Conditional Conditional = yes refl
flavor-decides Append Append = yes refl
flavor-decides Shell Shell = yes refl
flavor-decides a b = no (λ h. cc)

-- the lines of blocks
block-decides : (x y : List ℕ) → Decides (bytes_eq x y) (block_lines x ≡ block_lines y)
block-decides x y = Decides-like _ (ap block_lines) (block-same x y) (bytes_eq-Decides x y)

lines-decide : {A : Type 0} (a b : Option (Vec ℕ A)) → Decides (option_eq (λ (x : Vec ℕ A) (y : Vec ℕ A). bytes_eq x.items y.items) a b) (lines_of a ≡ lines_of b)
lines-decide None None = yes refl
lines-decide None (Some y) = no (λ h. block-some y.items (sym h))
lines-decide (Some x) None = no (λ h. block-some x.items h)
lines-decide (Some x) (Some y) = block-decides x.items y.items

-- for an allocator of any type `R`, with what it gives
pub places-decide : (R : RattleType) (G : alloc.Ghosts R.Denot) (d e : Dict) (a b : Place R.Denot)
    → Decides ((places.ghosts R G d e).eq a b) (place_of a ≡ place_of b)
places-decide R G d e place.Top place.Top = yes refl
places-decide R G d e place.Bottom place.Bottom = yes refl
places-decide R G d e (place.BeforeVar k n) (place.BeforeVar l m) =
    Decides-like _ (λ h. cc) (λ h. (cc, cc))
    (also (number-decides k l) (bytes_eq-Decides n.items m.items))
places-decide R G d e (place.AfterVar k n) (place.AfterVar l m) =
    Decides-like _ (λ h. cc) (λ h. (cc, cc))
    (also (number-decides k l) (bytes_eq-Decides n.items m.items))
places-decide R G d e (place.BeforeRule k n) (place.BeforeRule l m) =
    Decides-like _ (λ h. cc) (λ h. (cc, cc))
    (also (number-decides k l) (bytes_eq-Decides n.items m.items))
places-decide R G d e (place.AfterRule k n) (place.AfterRule l m) =
    Decides-like _ (λ h. cc) (λ h. (cc, cc))
    (also (number-decides k l) (bytes_eq-Decides n.items m.items))
places-decide R G d e (place.AfterLastVar n) (place.AfterLastVar m) =
    Decides-like _ (λ h. cc) (λ h. cc)
    (bytes_eq-Decides n.items m.items)
places-decide R G d e a b = no (λ h. cc)

sites-decide : (R : RattleType) (G : alloc.Ghosts R.Denot) (d e : Dict) (a b : Site R.Denot)
    → Decides ((site_eq.ghosts R G d e).eq a b) (site_of a ≡ site_of b)
sites-decide R G d e (site.AtPlace p) (site.AtPlace q) = Decides-like _ (λ h. cc) (λ h. cc) (places-decide R G d e p q)
sites-decide R G d e (site.BeforeLines k n) (site.BeforeLines l m) =
    Decides-like _ (λ h. cc) (λ h. (cc, cc))
    (also (number-decides k l) (block-decides n.items m.items))
sites-decide R G d e (site.AfterLines k n) (site.AfterLines l m) =
    Decides-like _ (λ h. cc) (λ h. (cc, cc))
    (also (number-decides k l) (block-decides n.items m.items))
sites-decide R G d e (site.OfLines k n) (site.OfLines l m) =
    Decides-like _ (λ h. cc) (λ h. (cc, cc))
    (also (number-decides k l) (block-decides n.items m.items))
sites-decide R G d e (site.OfRule k n) (site.OfRule l m) =
    Decides-like _ (λ h. cc) (λ h. (cc, cc))
    (also (number-decides k l) (bytes_eq-Decides n.items m.items))
sites-decide R G d e a b = no (λ h. cc)

changes-decide : (R : RattleType) (G : alloc.Ghosts R.Denot) (d e : Dict) (a b : ValueChange R.Denot)
    → Decides ((changes.ghosts R G d e).eq a b) (value_change_of a ≡ value_change_of b)
changes-decide R G d e (change.Set v) (change.Set w) =
    Decides-like _ (λ h. cc) (λ h. cc)
    (bytes_eq-Decides v.items w.items)
changes-decide R G d e (change.SetIf o v) (change.SetIf u w) =
    Decides-like _ (λ h. cc) (λ h. (cc, cc))
    (also (bytes_eq-Decides o.items u.items) (bytes_eq-Decides v.items w.items))
changes-decide R G d e (change.Append v) (change.Append w) =
    Decides-like _ (λ h. cc) (λ h. cc)
    (bytes_eq-Decides v.items w.items)
changes-decide R G d e (change.Add v) (change.Add w) =
    Decides-like _ (λ h. cc) (λ h. cc)
    (bytes_eq-Decides v.items w.items)
changes-decide R G d e (change.Remove v) (change.Remove w) =
    Decides-like _ (λ h. cc) (λ h. cc)
    (bytes_eq-Decides v.items w.items)
changes-decide R G d e a b = no (λ h. cc)

line_changes-decide : (R : RattleType) (G : alloc.Ghosts R.Denot) (d e : Dict) (a b : LineChange R.Denot)
    → Decides ((lines.ghosts R G d e).eq a b) (line_change_of a ≡ line_change_of b)
line_changes-decide R G d e (line.Prepend v) (line.Prepend w) =
    Decides-like _ (λ h. cc) (λ h. cc)
    (bytes_eq-Decides v.items w.items)
line_changes-decide R G d e (line.ReplaceWord o v) (line.ReplaceWord u w) =
    Decides-like _ (λ h. cc) (λ h. (cc, cc))
    (also (bytes_eq-Decides o.items u.items) (bytes_eq-Decides v.items w.items))
line_changes-decide R G d e (line.InsertWord i o v) (line.InsertWord j u w) =
    Decides-like _ (λ h. cc) (λ h. (cc, (cc, cc)))
    (also (side-decides i j) (also (bytes_eq-Decides o.items u.items) (bytes_eq-Decides v.items w.items)))
line_changes-decide R G d e (line.Substitute o v) (line.Substitute u w) =
    Decides-like _ (λ h. cc) (λ h. (cc, cc))
    (also (bytes_eq-Decides o.items u.items) (bytes_eq-Decides v.items w.items))
line_changes-decide R G d e (line.SetOperator f) (line.SetOperator g) =
    Decides-like _ (λ h. cc) (λ h. cc)
    (flavor-decides f g)
line_changes-decide R G d e a b = no (λ h. cc)

each_edits-decide : (R : RattleType) (G : alloc.Ghosts R.Denot) (d e : Dict) (a b : EachEdit R.Denot)
    → Decides ((each_edits.ghosts R G d e).eq a b) (each_edit_of a ≡ each_edit_of b)
each_edits-decide R G d e (each.ChangeEach n c) (each.ChangeEach m g) =
    Decides-like _ (λ h. cc) (λ h. (cc, cc))
    (also (bytes_eq-Decides n.items m.items) (line_changes-decide R G d e c g))
each_edits-decide R G d e (each.SubstValues o v) (each.SubstValues u w) =
    Decides-like _ (λ h. cc) (λ h. (cc, cc))
    (also (bytes_eq-Decides o.items u.items) (bytes_eq-Decides v.items w.items))
each_edits-decide R G d e (each.SubstRecipe k n o v) (each.SubstRecipe l m u w) =
    Decides-like _ (λ h. cc) (λ h. (cc, (cc, (cc, cc))))
    (also (number-decides k l) (also (bytes_eq-Decides n.items m.items) (also (bytes_eq-Decides o.items u.items) (bytes_eq-Decides v.items w.items))))
each_edits-decide R G d e (each.SubstRecipes o v) (each.SubstRecipes u w) =
    Decides-like _ (λ h. cc) (λ h. (cc, cc))
    (also (bytes_eq-Decides o.items u.items) (bytes_eq-Decides v.items w.items))
each_edits-decide R G d e a b = no (λ h. cc)

pub edits-decide : (R : RattleType) (G : alloc.Ghosts R.Denot) (d e : Dict) (a b : Edit R.Denot)
    → Decides ((edits.ghosts R G d e).eq a b) (edit_of a ≡ edit_of b)
edits-decide R G d e (edit.SetValue k n v) (edit.SetValue l m w) =
    Decides-like _ (λ h. cc) (λ h. (cc, (cc, cc)))
    (also (number-decides k l) (also (bytes_eq-Decides n.items m.items) (bytes_eq-Decides v.items w.items)))
edits-decide R G d e (edit.SetValueIf k n o v) (edit.SetValueIf l m u w) =
    Decides-like _ (λ h. cc) (λ h. (cc, (cc, (cc, cc))))
    (also (number-decides k l) (also (bytes_eq-Decides n.items m.items) (also (bytes_eq-Decides o.items u.items) (bytes_eq-Decides v.items w.items))))
edits-decide R G d e (edit.AppendValue k n v) (edit.AppendValue l m w) =
    Decides-like _ (λ h. cc) (λ h. (cc, (cc, cc)))
    (also (number-decides k l) (also (bytes_eq-Decides n.items m.items) (bytes_eq-Decides v.items w.items)))
edits-decide R G d e (edit.AddWord k n v) (edit.AddWord l m w) =
    Decides-like _ (λ h. cc) (λ h. (cc, (cc, cc)))
    (also (number-decides k l) (also (bytes_eq-Decides n.items m.items) (bytes_eq-Decides v.items w.items)))
edits-decide R G d e (edit.RemoveWord k n v) (edit.RemoveWord l m w) =
    Decides-like _ (λ h. cc) (λ h. (cc, (cc, cc)))
    (also (number-decides k l) (also (bytes_eq-Decides n.items m.items) (bytes_eq-Decides v.items w.items)))
edits-decide R G d e (edit.ChangeValues n c) (edit.ChangeValues m f) =
    Decides-like _ (λ h. cc) (λ h. (cc, cc))
    (also (bytes_eq-Decides n.items m.items) (changes-decide R G d e c f))
edits-decide R G d e (edit.ChangeLine k n c) (edit.ChangeLine l m f) =
    Decides-like _ (λ h. cc) (λ h. (cc, (cc, cc)))
    (also (number-decides k l) (also (bytes_eq-Decides n.items m.items) (line_changes-decide R G d e c f)))
edits-decide R G d e (edit.AddAssign p n f v) (edit.AddAssign q m g w) =
    Decides-like _ (λ h. cc) (λ h. (cc, (cc, (cc, cc))))
    (also (places-decide R G d e p q) (also (bytes_eq-Decides n.items m.items) (also (flavor-decides f g) (bytes_eq-Decides v.items w.items))))
edits-decide R G d e (edit.RemoveAssign k n) (edit.RemoveAssign l m) =
    Decides-like _ (λ h. cc) (λ h. (cc, cc))
    (also (number-decides k l) (bytes_eq-Decides n.items m.items))
edits-decide R G d e (edit.CommentOut k n) (edit.CommentOut l m) =
    Decides-like _ (λ h. cc) (λ h. (cc, cc))
    (also (number-decides k l) (bytes_eq-Decides n.items m.items))
edits-decide R G d e (edit.Uncomment k n) (edit.Uncomment l m) =
    Decides-like _ (λ h. cc) (λ h. (cc, cc))
    (also (number-decides k l) (bytes_eq-Decides n.items m.items))
edits-decide R G d e (edit.AddRule p n s v) (edit.AddRule q m t w) =
    Decides-like _ (λ h. cc) (λ h. (cc, (cc, (cc, cc))))
    (also (places-decide R G d e p q) (also (bytes_eq-Decides n.items m.items) (also (separator-decides s t) (bytes_eq-Decides v.items w.items))))
edits-decide R G d e (edit.RemoveRule k n) (edit.RemoveRule l m) =
    Decides-like _ (λ h. cc) (λ h. (cc, cc))
    (also (number-decides k l) (bytes_eq-Decides n.items m.items))
edits-decide R G d e (edit.AddPrereq i k n v) (edit.AddPrereq j l m w) =
    Decides-like _ (λ h. cc) (λ h. (cc, (cc, (cc, cc))))
    (also (order-decides i j) (also (number-decides k l) (also (bytes_eq-Decides n.items m.items) (bytes_eq-Decides v.items w.items))))
edits-decide R G d e (edit.RemovePrereq k n v) (edit.RemovePrereq l m w) =
    Decides-like _ (λ h. cc) (λ h. (cc, (cc, cc)))
    (also (number-decides k l) (also (bytes_eq-Decides n.items m.items) (bytes_eq-Decides v.items w.items)))
edits-decide R G d e (edit.ReplacePrereq k n o v) (edit.ReplacePrereq l m u w) =
    Decides-like _ (λ h. cc) (λ h. (cc, (cc, (cc, cc))))
    (also (number-decides k l) (also (bytes_eq-Decides n.items m.items) (also (bytes_eq-Decides o.items u.items) (bytes_eq-Decides v.items w.items))))
edits-decide R G d e (edit.AddRecipe k n v) (edit.AddRecipe l m w) =
    Decides-like _ (λ h. cc) (λ h. (cc, (cc, cc)))
    (also (number-decides k l) (also (bytes_eq-Decides n.items m.items) (bytes_eq-Decides v.items w.items)))
edits-decide R G d e (edit.SetRecipe k n i v) (edit.SetRecipe l m j w) =
    Decides-like _ (λ h. cc) (λ h. (cc, (cc, (cc, cc))))
    (also (number-decides k l) (also (bytes_eq-Decides n.items m.items) (also (Decides-eqb i j) (bytes_eq-Decides v.items w.items))))
edits-decide R G d e (edit.RemoveRecipe k n i) (edit.RemoveRecipe l m j) =
    Decides-like _ (λ h. cc) (λ h. (cc, (cc, cc)))
    (also (number-decides k l) (also (bytes_eq-Decides n.items m.items) (Decides-eqb i j)))
edits-decide R G d e (edit.InsertRecipe k n i v) (edit.InsertRecipe l m j w) =
    Decides-like _ (λ h. cc) (λ h. (cc, (cc, (cc, cc))))
    (also (number-decides k l) (also (bytes_eq-Decides n.items m.items) (also (Decides-eqb i j) (bytes_eq-Decides v.items w.items))))
edits-decide R G d e (edit.SetRecipeByText k n o v) (edit.SetRecipeByText l m u w) =
    Decides-like _ (λ h. cc) (λ h. (cc, (cc, (cc, cc))))
    (also (number-decides k l) (also (bytes_eq-Decides n.items m.items) (also (bytes_eq-Decides o.items u.items) (bytes_eq-Decides v.items w.items))))
edits-decide R G d e (edit.RemoveRecipeByText k n v) (edit.RemoveRecipeByText l m w) =
    Decides-like _ (λ h. cc) (λ h. (cc, (cc, cc)))
    (also (number-decides k l) (also (bytes_eq-Decides n.items m.items) (bytes_eq-Decides v.items w.items)))
edits-decide R G d e (edit.RenameTarget n v) (edit.RenameTarget m w) =
    Decides-like _ (λ h. cc) (λ h. (cc, cc))
    (also (bytes_eq-Decides n.items m.items) (bytes_eq-Decides v.items w.items))
edits-decide R G d e (edit.ExchangeLines s b) (edit.ExchangeLines q c) =
    Decides-like _ (λ h. cc) (λ h. (cc, cc))
    (also (sites-decide R G d e s q) (lines-decide b c))
edits-decide R G d e (edit.EachLine x) (edit.EachLine y) = Decides-like _ (λ h. cc) (λ h. cc) (each_edits-decide R G d e x y)
edits-decide R G d e a b = no (λ h. cc)
