use Rattle.std.proofs.Common.{rules}
use Rattle.mk_tree.proofs.Prefixes.{gathers-fails, gathers-front, gathers-then}
use Rattle.mk_queries.proofs.PutLemmas.{gathers-as}
use Rattle.mk_queries.proofs.query.rules.put_rule.Goals as goal

pub returns-in_err-put_position : goal.returns-in_err-put_position
returns-in_err-put_position g c = gathers-fails c.from_residual.ensures.1 (gathers-front _ c.in_err-put_position.ensures)

pub returns-in_err-put_targets : goal.returns-in_err-put_targets
returns-in_err-put_targets g c = gathers-fails c.from_residual-in_err-put_targets.ensures.1 (gathers-then c.in_ok-put_position.ensures (gathers-front _ (rw (c.targets.ensures, c.separator.ensures) at c.in_err-put_targets.ensures)))

pub returns-in_err-put_pattern : goal.returns-in_err-put_pattern
returns-in_err-put_pattern g c = gathers-fails c.from_residual-in_err-put_pattern.ensures.1 (gathers-then c.in_ok-put_position.ensures (gathers-then (rw (c.targets.ensures, c.separator.ensures) at c.in_ok-put_targets.ensures) (gathers-front _ (rw c.pattern.ensures at c.in_err-put_pattern.ensures))))

pub returns-in_err-put_words : goal.returns-in_err-put_words
returns-in_err-put_words g c = gathers-fails c.from_residual-in_err-put_words.ensures.1 (gathers-then c.in_ok-put_position.ensures (gathers-then (rw (c.targets.ensures, c.separator.ensures) at c.in_ok-put_targets.ensures) (gathers-then (rw c.pattern.ensures at c.in_ok-put_pattern.ensures) (gathers-front _ (rw c.prereqs.ensures at c.in_err-put_words.ensures)))))

pub returns-in_err-put_order_only : goal.returns-in_err-put_order_only
returns-in_err-put_order_only g c = gathers-fails c.from_residual-in_err-put_order_only.ensures.1 (gathers-then c.in_ok-put_position.ensures (gathers-then (rw (c.targets.ensures, c.separator.ensures) at c.in_ok-put_targets.ensures) (gathers-then (rw c.pattern.ensures at c.in_ok-put_pattern.ensures) (gathers-then (rw c.prereqs.ensures at c.in_ok-put_words.ensures) (gathers-front _ (rw c.order_only.ensures at c.in_err-put_order_only.ensures))))))

pub returns : goal.returns
returns g c =
    gathers-as (search rules)
    (gathers-then c.in_ok-put_position.ensures (gathers-then c.in_ok-put_targets.ensures (gathers-then c.in_ok-put_pattern.ensures (gathers-then c.in_ok-put_words.ensures (gathers-then c.in_ok-put_order_only.ensures c.put_count.ensures)))))
