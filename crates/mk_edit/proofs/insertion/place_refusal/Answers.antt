use Rattle.std.proofs.Common.{◌≡◌, ◌∙◌, refl, sym, ap, None}
use Rattle.mk_class.specs.ClassedLines.{classed_lines}
use Rattle.mk_tree.specs.LocatedLines.{located_text}
use Rattle.mk_edit_language.specs.Causes.{where_holds}
use Rattle.mk_edit_language.specs.LineCauses.{open_line, open_define, leaning}
use Rattle.mk_edit_language.specs.declared.refusal.Refusal.TheVariants.{OpenLine, OpenDefine, Leans, TooLong}
use Rattle.mk_edit_language.specs.EditViews.{edit_of}
use Rattle.mk_edit_parts.proofs.CauseLemmas.{passed, holds}
use Rattle.mk_edit.proofs.on_new_lines.PlaceCauses.{open_line-at, open_define-at, leaning-at, too_long-at}
use Rattle.mk_edit.proofs.insertion.place_refusal.Given.{Over}
use Rattle.mk_edit.proofs.insertion.place_refusal.Goals.{Else-follows_open_line, Else-is_in_define, Else-is_leaned_on}
use Rattle.mk_edit.proofs.insertion.place_refusal.Goals as goal

line : (g : Over) (c : Else-follows_open_line g) → open_line (classed_lines (located_text c.args.doc.now)) (edit_of c.args.edit.now) ≡ None
line g c = open_line-at c.args.doc.now (edit_of c.args.edit.now) c.args.place.now _ c.requires.faithful c.requires.inserted c.follows_open_line.ensures ∙ ap (λ z. where_holds z OpenLine) c.if-follows_open_line.false

define : (g : Over) (c : Else-is_in_define g) → open_define (classed_lines (located_text c.args.doc.now)) (edit_of c.args.edit.now) ≡ None
define g c = open_define-at c.args.doc.now (edit_of c.args.edit.now) c.args.place.now _ c.requires.of_new_line c.requires.inserted c.is_in_define.ensures ∙ ap (λ z. where_holds z OpenDefine) c.if-is_in_define.false

lean : (g : Over) (c : Else-is_leaned_on g) → leaning (classed_lines (located_text c.args.doc.now)) (edit_of c.args.edit.now) ≡ None
lean g c = leaning-at c.args.doc.now (edit_of c.args.edit.now) c.args.place.now _ c.requires.faithful c.requires.of_new_line c.requires.inserted c.is_leaned_on.ensures ∙ ap (λ z. where_holds z Leans) c.if-is_leaned_on.false

pub returns-then-follows_open_line : goal.returns-then-follows_open_line
returns-then-follows_open_line g c =
    sym (holds _ _ OpenLine (open_line-at c.args.doc.now (edit_of c.args.edit.now) c.args.place.now _ c.requires.faithful c.requires.inserted c.follows_open_line.ensures ∙ ap (λ z. where_holds z OpenLine) c.if-follows_open_line.true))

pub returns-then-is_in_define : goal.returns-then-is_in_define
returns-then-is_in_define g c =
    let at = goal.at.returns-then-is_in_define g c in
    let here = open_define-at c.args.doc.now (edit_of c.args.edit.now) c.args.place.now _ c.requires.of_new_line c.requires.inserted c.is_in_define.ensures ∙ ap (λ z. where_holds z OpenDefine) c.if-is_in_define.true in
    sym (passed _ _ _ (line g at.Else-follows_open_line) (holds _ _ OpenDefine here))

pub returns-then-is_leaned_on : goal.returns-then-is_leaned_on
returns-then-is_leaned_on g c =
    let at = goal.at.returns-then-is_leaned_on g c in
    let here = leaning-at c.args.doc.now (edit_of c.args.edit.now) c.args.place.now _ c.requires.faithful c.requires.of_new_line c.requires.inserted c.is_leaned_on.ensures ∙ ap (λ z. where_holds z Leans) c.if-is_leaned_on.true in
    sym (passed _ _ _ (line g at.Else-follows_open_line) (passed _ _ _ (define g at.Else-is_in_define) (holds _ _ Leans here)))

pub returns-then-is_too_long : goal.returns-then-is_too_long
returns-then-is_too_long g c =
    let at = goal.at.returns-then-is_too_long g c in
    let here = too_long-at c.args.doc.now (edit_of c.args.edit.now) c.args.place.now _ c.requires.faithful c.requires.of_new_line c.requires.inserted c.is_too_long.ensures ∙ ap (λ z. where_holds z TooLong) c.if-is_too_long.true in
    sym (passed _ _ _ (line g at.Else-follows_open_line) (passed _ _ _ (define g at.Else-is_in_define) (passed _ _ _ (lean g at.Else-is_leaned_on) (holds _ _ TooLong here))))

pub returns : goal.returns
returns g c =
    let at = goal.at.returns g c in
    let here = too_long-at c.args.doc.now (edit_of c.args.edit.now) c.args.place.now _ c.requires.faithful c.requires.of_new_line c.requires.inserted c.is_too_long.ensures ∙ ap (λ z. where_holds z TooLong) c.if-is_too_long.false in
    sym (passed _ _ _ (line g at.Else-follows_open_line) (passed _ _ _ (define g at.Else-is_in_define) (passed _ _ _ (lean g at.Else-is_leaned_on) (passed _ _ _ here refl))))
