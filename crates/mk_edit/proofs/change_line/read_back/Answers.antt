use Rattle.std.proofs.Common.{refl, sym, ◌∙◌, inr}
use Rattle.mk_tree.specs.Trees.{line_view}
use Rattle.mk_edit.proofs.on_line_changes.ReadBack.{read-told}
use Rattle.mk_edit.proofs.change_line.read_back.Goals as goal

pub returns-then-is_read_as-clause-reads : goal.returns-then-is_read_as-clause-reads
returns-then-is_read_as-clause-reads g c =
    read-told c.args.context (line_view c.args.old.now) (line_view c.in-Ok.line) c.args.bytes.items c.args.flavor c.args.value.now _
    c.requires.own c.in-Ok.ensures.line (sym c.is_read_as.ensures ∙ c.if-is_read_as.true)

pub returns-else-is_read_as-clause-refused : goal.returns-else-is_read_as-clause-refused
returns-else-is_read_as-clause-refused g c =
    inr (
      refl,
      read-told c.args.context (line_view c.args.old.now) (line_view c.in-Ok.line) c.args.bytes.items c.args.flavor c.args.value.now _
          c.requires.own c.in-Ok.ensures.line (sym c.is_read_as.ensures ∙ c.if-is_read_as.false),
    )
