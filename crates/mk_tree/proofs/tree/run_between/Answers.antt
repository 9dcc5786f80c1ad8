use Rattle.std.proofs.Common.{◌≡◌, ◌∙◌, ◌∷◌, ap, sym, true}
use Rattle.mk_tree.specs.Runs.{is_in_run}
use Rattle.mk_tree.specs.Trees.{line_view}
use Rattle.mk_tree.proofs.RunLemmas.{are_run-append}
use Rattle.mk_tree.proofs.tree.run_between.Goals as goal

pub returns-then-is_run-2 : goal.returns-then-is_run-2
returns-then-is_run-2 g c =
    let r = c.in_ok-run.run' in
    let here : is_in_run r (line_view c.args.line.now).class ≡ true = ap (is_in_run r) (sym c.class.ensures) ∙ c.in_ok-run.ensures in
    are_run-append r c.args.left.now.0 (line_view c.args.line.now ∷ c.args.right.now.0) (c.is_run.ensures c.if-is_run.true) (here, c.is_run-then-is_run.ensures c.if-is_run-2.true)
