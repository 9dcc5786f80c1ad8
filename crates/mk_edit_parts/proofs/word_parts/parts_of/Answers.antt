use Rattle.std.proofs.Common.{◌+◌, ◌∙◌, sym, ap, arith, length, Bool, cond}
use Rattle.mk_tree.specs.Trees.{line_view}
use Rattle.mk_edit_parts.proofs.on_finding.PartLemmas.{seen-header, seen-target_assign, text-length}
use Rattle.mk_edit_parts.proofs.on_renaming.RangeLemmas.{part-within}
use Rattle.mk_edit_parts.proofs.word_parts.parts_of.Goals.{then-header, else-header}
use Rattle.mk_edit_parts.proofs.word_parts.parts_of.Goals as goal

pub overflow_add-result : goal.overflow_add-result
overflow_add-result g c =
    let l = line_view c.args.line.now in
    let S = seen-header l c.requires.classed _ (sym c.requires.class ∙ c.in-Header.is) in
    omega (arith, S.2.normal.within, ap length c.text_of_line-text.ensures, text-length l)

pub returns-after-header-clause-within : goal.returns-after-header-clause-within
returns-after-header-clause-within g c =
    let h = c.in-Header.header in
    let S = seen-header (line_view c.args.line.now) c.requires.classed _ (sym c.requires.class ∙ c.in-Header.is) in
    let O = S.2.order_only in
    let plus : Bool → _ = λ b. h.normal_end + cond b 1 0 in (
      part-within _ _ _ _ _ S.2.targets,
      part-within _ _ _ _ _ S.2.normal,
      (
        elim c.if-header.branch [
          | then-header w ↦ let e = ap plus w.if-header.true in omega (arith, O.rises, w.result-is, e)
          | else-header w ↦ let e = ap plus w.if-header.false in omega (arith, O.rises, w.result-is, e)
        ],
        O.within,
      ),
    )

pub returns-in-TargetAssign-clause-within : goal.returns-in-TargetAssign-clause-within
returns-in-TargetAssign-clause-within g c =
    let S = seen-target_assign (line_view c.args.line.now) c.requires.classed _ (sym c.requires.class ∙ c.in-TargetAssign.is) in
    (part-within _ _ _ _ _ S.2.targets, (omega arith, omega arith), (omega arith, omega arith))
