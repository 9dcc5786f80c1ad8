use Rattle.std.proofs.Common.{rules}
use Rattle.std.specs.Prelude.{nat_lt}
use Rattle.std.proofs.lemmas.List.Sorted.{IsPartitionPoint-from_clause, IsPartitionedBy-ltb}
use Rattle.mk_lines.proofs.cells.stored.count_folds_behind.Goals as goal

pub returns : goal.returns
returns c =
    IsPartitionPoint-from_clause (λ e. nat_lt e.after c.args.after) _ _ c.partition_point.ensures.partitioned (IsPartitionedBy-ltb (λ e. e.after) c.args.ends.now c.args.after c.requires)
    (λ a r q k. search rules)
