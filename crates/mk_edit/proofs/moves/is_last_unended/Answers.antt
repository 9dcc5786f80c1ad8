use Rattle.std.proofs.Common.{◌≡◌, ◌∙◌, ◌-◌, ◌<◌, refl, sym, ap, arith, length}
use denote.Enum.Bare.{sameb}
use Rattle.mk_lines.specs.contracts.ends.End.{the_type}
use Rattle.mk_lines.specs.PhysicalLines.{line_end}
use Rattle.mk_lines.specs.LogicalLines.{has_no_line_end}
use Rattle.mk_lines.specs.declared.ends.End.{End}
use Rattle.mk_lines.specs.declared.ends.End.TheVariants as end
use Rattle.mk_edit.proofs.on_plans.DocumentPlaces.{last-unended}
use Rattle.mk_edit.proofs.moves.is_last_unended.Goals as goal

none-compared : (e : End) → sameb the_type e end.None ≡ has_no_line_end e
none-compared end.None = refl
none-compared end.Lf = refl
none-compared end.CrLf = refl

pub returns-then-count-ne0 : goal.returns-then-count-ne0
returns-then-count-ne0 g c =
    let some : 0 < length c.args.doc.now = omega arith in
    c.eq.ensures ∙ (none-compared c.line_end.result
    ∙ (ap has_no_line_end (c.line_end.ensures ∙ ap line_end c.bytes.ensures.bytes)
    ∙ sym (last-unended c.args.doc.now _ _ some (ap (λ n. n - 1) c.len-count.ensures.number) c.line.ensures)))
