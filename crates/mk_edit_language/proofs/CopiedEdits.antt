-- What `clone` gives of an edit, of a place and of a change: the same.
use Rattle.std.proofs.Common.{◌≡◌, ℕ, List, Option, Some, None, refl, ap, Result, Ok, Err, IfOk}
use Rattle.std.specs.List.{AllZip}
use Rattle.std.specs.Result.{MatchResult}
use Rattle.std.proofs.lemmas.List.Elements.{same_from_all_zip}
use Rattle.std.specs.declared.alloc.Allocator as alloc
use Rattle.std.specs.declared.clone.Clone as clone
use Rattle.std.specs.contracts.prelude.OptionClone.TheImpl as options
use Rattle.std.specs.contracts.prelude.U32Clone.TheImpl as numbers
use denote.Builtin.{u32}
use denote.RattleType.{RattleType}
use mir.Syntax.{Dict}
use Rattle.mk_edit_language.specs.EditViews.{each_edit_of, edit_of, line_change_of, place_of, site_of, value_change_of}
use Rattle.mk_edit_language.specs.LineRuns.{block_lines}
use Rattle.mk_edit_language.specs.declared.edit.Place.{Place}
use Rattle.mk_edit_language.specs.declared.edit.Place.TheVariants as place
use Rattle.mk_edit_language.specs.declared.edit.Site.{Site}
use Rattle.mk_edit_language.specs.declared.edit.Site.TheVariants as site
use Rattle.mk_edit_language.specs.declared.edit.ValueChange.{ValueChange}
use Rattle.mk_edit_language.specs.declared.edit.ValueChange.TheVariants as change
use Rattle.mk_edit_language.specs.declared.edit.LineChange.{LineChange}
use Rattle.mk_edit_language.specs.declared.edit.LineChange.TheVariants as line
use Rattle.mk_edit_language.specs.declared.edit.EachEdit.{EachEdit}
use Rattle.mk_edit_language.specs.declared.edit.EachEdit.TheVariants as each
use Rattle.mk_edit_language.specs.declared.edit.Edit.{Edit}
use Rattle.mk_edit_language.specs.declared.edit.Edit.TheVariants as edit
use Rattle.mk_edit_language.specs.contracts.edit.PlaceClone.TheImpl as places
use Rattle.mk_edit_language.specs.contracts.edit.SiteClone.TheImpl as sites
use Rattle.mk_edit_language.specs.contracts.edit.ValueChangeClone.TheImpl as changes
use Rattle.mk_edit_language.specs.contracts.edit.LineChangeClone.TheImpl as lines
use Rattle.mk_edit_language.specs.contracts.edit.EachEditClone.TheImpl as each_edits
use Rattle.mk_edit_language.specs.contracts.edit.EditClone.TheImpl as edits

-- what follows of a result where there is one
pub if_ok : {X E : Type 0} (P Q : X → Type 0) (S : E → Type 0) → ((x : X) → P x → Q x) → (r : Result X E)
    → MatchResult r P S → IfOk r Q
if_ok P Q S each (Ok x) h = each x h
if_ok P Q S each (Err e) h = tt

-- the parts of edits
number-cloned : (d e : Dict) (k l : Option ℕ) → (options.ghosts u32 numbers.ghosts d e).is_clone k l → l ≡ k
number-cloned d e None None h = refl
number-cloned d e None (Some y) h = absurd h
number-cloned d e (Some x) None h = absurd h
number-cloned d e (Some x) (Some y) h = ap Some h

text-cloned : (m n : List ℕ) → AllZip (λ x y. y ≡ x) m n → n ≡ m
text-cloned m n h = same_from_all_zip (λ x y. y ≡ x) m n h (λ x y same. same)

block-cloned : (m n : List ℕ) → AllZip (λ x y. y ≡ x) m n → block_lines n ≡ block_lines m
block-cloned m n h = ap block_lines (text-cloned m n h)

-- for an allocator of any type `R`, with what it gives
pub places-cloned : (R : RattleType) (G : alloc.Ghosts R.Denot) (d : Dict) (C : clone.Ghosts R.Denot) (e f : Dict)
    (a b : Place R.Denot) → (places.ghosts R G d C e f).is_clone a b → place_of b ≡ place_of a
places-cloned R G d C e f place.Top place.Top h = refl
places-cloned R G d C e f place.Bottom place.Bottom h = refl
places-cloned R G d C e f (place.BeforeVar k n) (place.BeforeVar l m) h =
    cc (number-cloned e e k l h.0, text-cloned n.items m.items h.1.0)
places-cloned R G d C e f (place.AfterVar k n) (place.AfterVar l m) h =
    cc (number-cloned e e k l h.0, text-cloned n.items m.items h.1.0)
places-cloned R G d C e f (place.BeforeRule k n) (place.BeforeRule l m) h =
    cc (number-cloned e e k l h.0, text-cloned n.items m.items h.1.0)
places-cloned R G d C e f (place.AfterRule k n) (place.AfterRule l m) h =
    cc (number-cloned e e k l h.0, text-cloned n.items m.items h.1.0)
places-cloned R G d C e f (place.AfterLastVar n) (place.AfterLastVar m) h =
    cc (text-cloned n.items m.items h.0)
places-cloned R G d C e f a b h = absurd h

sites-cloned : (R : RattleType) (G : alloc.Ghosts R.Denot) (d : Dict) (C : clone.Ghosts R.Denot) (e f : Dict)
    (a b : Site R.Denot) → (sites.ghosts R G d C e f).is_clone a b → site_of b ≡ site_of a
sites-cloned R G d C e f (site.AtPlace p) (site.AtPlace q) h = cc (places-cloned R G d C e f p q h)
sites-cloned R G d C e f (site.BeforeLines k n) (site.BeforeLines l m) h =
    cc (number-cloned e e k l h.0, block-cloned n.items m.items h.1.0)
sites-cloned R G d C e f (site.AfterLines k n) (site.AfterLines l m) h =
    cc (number-cloned e e k l h.0, block-cloned n.items m.items h.1.0)
sites-cloned R G d C e f (site.OfLines k n) (site.OfLines l m) h =
    cc (number-cloned e e k l h.0, block-cloned n.items m.items h.1.0)
sites-cloned R G d C e f (site.OfRule k n) (site.OfRule l m) h =
    cc (number-cloned e e k l h.0, text-cloned n.items m.items h.1.0)
sites-cloned R G d C e f a b h = absurd h

changes-cloned : (R : RattleType) (G : alloc.Ghosts R.Denot) (d : Dict) (C : clone.Ghosts R.Denot) (e f : Dict)
    (a b : ValueChange R.Denot) → (changes.ghosts R G d C e f).is_clone a b → value_change_of b ≡ value_change_of a
changes-cloned R G d C e f (change.Set v) (change.Set w) h =
    cc (text-cloned v.items w.items h.0)
changes-cloned R G d C e f (change.SetIf o v) (change.SetIf u w) h =
    cc (text-cloned o.items u.items h.0.0, text-cloned v.items w.items h.1.0)
changes-cloned R G d C e f (change.Append v) (change.Append w) h =
    cc (text-cloned v.items w.items h.0)
changes-cloned R G d C e f (change.Add v) (change.Add w) h =
    cc (text-cloned v.items w.items h.0)
changes-cloned R G d C e f (change.Remove v) (change.Remove w) h =
    cc (text-cloned v.items w.items h.0)
changes-cloned R G d C e f a b h = absurd h

line_changes-cloned : (R : RattleType) (G : alloc.Ghosts R.Denot) (d : Dict) (C : clone.Ghosts R.Denot) (e f : Dict)
    (a b : LineChange R.Denot) → (lines.ghosts R G d C e f).is_clone a b → line_change_of b ≡ line_change_of a
line_changes-cloned R G d C e f (line.Prepend v) (line.Prepend w) h =
    cc (text-cloned v.items w.items h.0)
line_changes-cloned R G d C e f (line.ReplaceWord o v) (line.ReplaceWord u w) h =
    cc (text-cloned o.items u.items h.0.0, text-cloned v.items w.items h.1.0)
line_changes-cloned R G d C e f (line.InsertWord i o v) (line.InsertWord j u w) h =
    cc (h.0, text-cloned o.items u.items h.1.0.0, text-cloned v.items w.items h.1.1.0)
line_changes-cloned R G d C e f (line.Substitute o v) (line.Substitute u w) h =
    cc (text-cloned o.items u.items h.0.0, text-cloned v.items w.items h.1.0)
line_changes-cloned R G d C e f (line.SetOperator i) (line.SetOperator j) h = cc (h)
line_changes-cloned R G d C e f a b h = absurd h

each_edits-cloned : (R : RattleType) (G : alloc.Ghosts R.Denot) (d : Dict) (C : clone.Ghosts R.Denot) (e f : Dict)
    (a b : EachEdit R.Denot) → (each_edits.ghosts R G d C e f).is_clone a b → each_edit_of b ≡ each_edit_of a
each_edits-cloned R G d C e f (each.ChangeEach n c) (each.ChangeEach m g) h =
    cc (text-cloned n.items m.items h.0.0, line_changes-cloned R G d C e f c g h.1)
each_edits-cloned R G d C e f (each.SubstValues o v) (each.SubstValues u w) h =
    cc (text-cloned o.items u.items h.0.0, text-cloned v.items w.items h.1.0)
each_edits-cloned R G d C e f (each.SubstRecipe k n o v) (each.SubstRecipe l m u w) h =
    cc (number-cloned e e k l h.0, text-cloned n.items m.items h.1.0.0, text-cloned o.items u.items h.1.1.0.0, text-cloned v.items w.items h.1.1.1.0)
each_edits-cloned R G d C e f (each.SubstRecipes o v) (each.SubstRecipes u w) h =
    cc (text-cloned o.items u.items h.0.0, text-cloned v.items w.items h.1.0)
each_edits-cloned R G d C e f a b h = absurd h

pub edits-cloned : (R : RattleType) (G : alloc.Ghosts R.Denot) (d : Dict) (C : clone.Ghosts R.Denot) (e f : Dict)
    (a b : Edit R.Denot) → (edits.ghosts R G d C e f).is_clone a b → edit_of b ≡ edit_of a
edits-cloned R G d C e f (edit.SetValue k n v) (edit.SetValue l m w) h =
    cc (number-cloned e e k l h.0, text-cloned n.items m.items h.1.0.0, text-cloned v.items w.items h.1.1.0)
edits-cloned R G d C e f (edit.SetValueIf k n o v) (edit.SetValueIf l m u w) h =
    cc (number-cloned e e k l h.0, text-cloned n.items m.items h.1.0.0, text-cloned o.items u.items h.1.1.0.0, text-cloned v.items w.items h.1.1.1.0)
edits-cloned R G d C e f (edit.AppendValue k n v) (edit.AppendValue l m w) h =
    cc (number-cloned e e k l h.0, text-cloned n.items m.items h.1.0.0, text-cloned v.items w.items h.1.1.0)
edits-cloned R G d C e f (edit.AddWord k n v) (edit.AddWord l m w) h =
    cc (number-cloned e e k l h.0, text-cloned n.items m.items h.1.0.0, text-cloned v.items w.items h.1.1.0)
edits-cloned R G d C e f (edit.RemoveWord k n v) (edit.RemoveWord l m w) h =
    cc (number-cloned e e k l h.0, text-cloned n.items m.items h.1.0.0, text-cloned v.items w.items h.1.1.0)
edits-cloned R G d C e f (edit.ChangeValues n c) (edit.ChangeValues m g) h =
    cc (text-cloned n.items m.items h.0.0, changes-cloned R G d C e f c g h.1)
edits-cloned R G d C e f (edit.ChangeLine k n c) (edit.ChangeLine l m g) h =
    cc (number-cloned e e k l h.0, text-cloned n.items m.items h.1.0.0, line_changes-cloned R G d C e f c g h.1.1)
edits-cloned R G d C e f (edit.AddAssign p n i v) (edit.AddAssign q m j w) h =
    cc (places-cloned R G d C e f p q h.0, text-cloned n.items m.items h.1.0.0, h.1.1.0, text-cloned v.items w.items h.1.1.1.0)
edits-cloned R G d C e f (edit.RemoveAssign k n) (edit.RemoveAssign l m) h =
    cc (number-cloned e e k l h.0, text-cloned n.items m.items h.1.0)
edits-cloned R G d C e f (edit.CommentOut k n) (edit.CommentOut l m) h =
    cc (number-cloned e e k l h.0, text-cloned n.items m.items h.1.0)
edits-cloned R G d C e f (edit.Uncomment k n) (edit.Uncomment l m) h =
    cc (number-cloned e e k l h.0, text-cloned n.items m.items h.1.0)
edits-cloned R G d C e f (edit.AddRule p n i v) (edit.AddRule q m j w) h =
    cc (places-cloned R G d C e f p q h.0, text-cloned n.items m.items h.1.0.0, h.1.1.0, text-cloned v.items w.items h.1.1.1.0)
edits-cloned R G d C e f (edit.RemoveRule k n) (edit.RemoveRule l m) h =
    cc (number-cloned e e k l h.0, text-cloned n.items m.items h.1.0)
edits-cloned R G d C e f (edit.AddPrereq i k n v) (edit.AddPrereq j l m w) h =
    cc (h.0, number-cloned e e k l h.1.0, text-cloned n.items m.items h.1.1.0.0, text-cloned v.items w.items h.1.1.1.0)
edits-cloned R G d C e f (edit.RemovePrereq k n v) (edit.RemovePrereq l m w) h =
    cc (number-cloned e e k l h.0, text-cloned n.items m.items h.1.0.0, text-cloned v.items w.items h.1.1.0)
edits-cloned R G d C e f (edit.ReplacePrereq k n o v) (edit.ReplacePrereq l m u w) h =
    cc (number-cloned e e k l h.0, text-cloned n.items m.items h.1.0.0, text-cloned o.items u.items h.1.1.0.0, text-cloned v.items w.items h.1.1.1.0)
edits-cloned R G d C e f (edit.AddRecipe k n v) (edit.AddRecipe l m w) h =
    cc (number-cloned e e k l h.0, text-cloned n.items m.items h.1.0.0, text-cloned v.items w.items h.1.1.0)
edits-cloned R G d C e f (edit.SetRecipe k n i v) (edit.SetRecipe l m j w) h =
    cc (number-cloned e e k l h.0, text-cloned n.items m.items h.1.0.0, h.1.1.0, text-cloned v.items w.items h.1.1.1.0)
edits-cloned R G d C e f (edit.RemoveRecipe k n i) (edit.RemoveRecipe l m j) h =
    cc (number-cloned e e k l h.0, text-cloned n.items m.items h.1.0.0, h.1.1)
edits-cloned R G d C e f (edit.InsertRecipe k n i v) (edit.InsertRecipe l m j w) h =
    cc (number-cloned e e k l h.0, text-cloned n.items m.items h.1.0.0, h.1.1.0, text-cloned v.items w.items h.1.1.1.0)
edits-cloned R G d C e f (edit.SetRecipeByText k n o v) (edit.SetRecipeByText l m u w) h =
    cc (number-cloned e e k l h.0, text-cloned n.items m.items h.1.0.0, text-cloned o.items u.items h.1.1.0.0, text-cloned v.items w.items h.1.1.1.0)
edits-cloned R G d C e f (edit.RemoveRecipeByText k n v) (edit.RemoveRecipeByText l m w) h =
    cc (number-cloned e e k l h.0, text-cloned n.items m.items h.1.0.0, text-cloned v.items w.items h.1.1.0)
edits-cloned R G d C e f (edit.RenameTarget n v) (edit.RenameTarget m w) h =
    cc (text-cloned n.items m.items h.0.0, text-cloned v.items w.items h.1.0)
edits-cloned R G d C e f (edit.ExchangeLines s None) (edit.ExchangeLines q None) h =
    cc (sites-cloned R G d C e f s q h.0)
edits-cloned R G d C e f (edit.ExchangeLines s (Some x)) (edit.ExchangeLines q (Some y)) h =
    cc (sites-cloned R G d C e f s q h.0, block-cloned x.items y.items h.1.0)
edits-cloned R G d C e f (edit.ExchangeLines s None) (edit.ExchangeLines q (Some y)) h = absurd h.1
edits-cloned R G d C e f (edit.ExchangeLines s (Some x)) (edit.ExchangeLines q None) h = absurd h.1
edits-cloned R G d C e f (edit.EachLine x) (edit.EachLine y) h = cc (each_edits-cloned R G d C e f x y h)
edits-cloned R G d C e f a b h = absurd h
