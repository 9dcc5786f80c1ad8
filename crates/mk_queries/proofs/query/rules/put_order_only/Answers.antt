use Rattle.std.proofs.Common.{rules}
use Rattle.mk_lines.specs.Spacing.{each_after_space}
use Rattle.mk_tree.proofs.Prefixes.{gathers-fails, gathers-front, gathers-then}
use Rattle.mk_queries.proofs.PutLemmas.{gathers-as}
use Rattle.mk_queries.proofs.query.rules.put_order_only.Goals as goal

pub returns-in_err-put_parts : goal.returns-in_err-put_parts
returns-in_err-put_parts g c = gathers-as (search rules) (gathers-fails c.from_residual.ensures.1 (gathers-front (each_after_space c.next.new.self) c.in_err-put_parts.ensures))

pub returns : goal.returns
returns g c = gathers-as (search rules) (gathers-then c.in_ok-put_parts.ensures c.put_words.ensures)
