use Rattle.std.proofs.Common.{◌≡◌, ◌∙◌, ◌∷◌, [], rules, sym, ap, subst, arith}
use Rattle.mk_lines.specs.LogicalLines.{logical_lines}
use Rattle.mk_class.specs.LocatedClasses.{located_class}
use Rattle.mk_lines.specs.Cells.{joined_byte}
use Rattle.mk_tree.specs.LineTexts.{line_in}
use Rattle.mk_tree.specs.LocatedLines.{located_line}
use Rattle.mk_patch.specs.Moves.{IsPlain}
use Rattle.mk_edit.proofs.on_renaming.PatchTurns.{exchanged-counted, exchanged-one, exchanged-some, left-counted}
use Rattle.mk_edit.proofs.change_values_patch.changed_in_turn.Goals as goal

pub is_exchanged-requires : goal.is_exchanged-requires
is_exchanged-requires g c = record { context = c.args.meant.now.place.context; class_is = c.requires.own.class_is ∙ ap (located_class joined_byte) (sym c.requires.own.here) }

pub bytes_changed-requires : goal.bytes_changed-requires
bytes_changed-requires g c = c.requires.own

pub read_line-requires : goal.read_line-requires
read_line-requires g c = record {
  one = subst (λ b. logical_lines b ≡ b ∷ []) (sym c.in-Ok.ensures) c.requires.one;
  plain = subst (λ b. IsPlain (located_line (line_in c.args.meant.now.place.context b))) (sym c.in-Ok.ensures) c.requires.plain;
  defines = c.requires.defines;
}

pub returns-clause-line : goal.returns-clause-line
returns-clause-line g c =
    exchanged-some _ _ _ (sym c.is_exchanged.ensures ∙ c.if-not-is_exchanged.false) (c.in_ok-changed.ensures.line ∙ ap (λ b. located_line (line_in c.args.meant.now.place.context b)) c.in-Ok.ensures)

pub returns-clause-reads : goal.returns-clause-reads
returns-clause-reads g c =
    let e = sym c.is_exchanged.ensures ∙ c.if-not-is_exchanged.false in
    let R = c.in_ok-changed.ensures.reads in
    record { refused = R.refused; counted = exchanged-counted _ _ _ e R.counted; few_read = exchanged-one _ _ _ e R.few_read; forward = R.forward }

pub returns-in_err-changed-clause-reads : goal.returns-in_err-changed-clause-reads
returns-in_err-changed-clause-reads g c =
    let e = sym c.is_exchanged.ensures ∙ c.if-not-is_exchanged.false in
    let R = c.in_err-changed.ensures.reads in
    record { refused = search rules; counted = search rules; few_read = exchanged-one _ _ _ e R.few_read; forward = R.forward }

pub returns-then-not-is_exchanged-clause-reads : goal.returns-then-not-is_exchanged-clause-reads
returns-then-not-is_exchanged-clause-reads g c =
    record { refused = tt; counted = left-counted _ _ (sym c.is_exchanged.ensures ∙ c.if-not-is_exchanged.true); few_read = omega arith; forward = omega arith }
