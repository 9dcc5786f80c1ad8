-- The lines on what was passed were put, and those on what is ahead are to come.
use Rattle.std.specs.List.{flat_map}
use Rattle.mk_queries.specs.Queries.{rule_recipes}
use Rattle.mk_queries.proofs.PutLemmas.{PutSoFar}
use Rattle.mk_queries.proofs.query.recipes.write_recipes.Given as goal

abbrev pub invariant-rules : goal.invariant-rules
invariant-rules g l =
    PutSoFar g.W.ByteSink.contents g.W.ByteSink.failed g.W.ByteSink.flushes l.initial.out l.out l.initial.gathered.items l.gathered.items (flat_map rule_recipes l.rule-iterator) (flat_map rule_recipes l.fn.rules)
