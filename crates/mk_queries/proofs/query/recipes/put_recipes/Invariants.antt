-- The lines on what was passed were put, and those on what is ahead are to come.
use Rattle.std.specs.List.{flat_map}
use Rattle.mk_queries.specs.Items.{rule_spot}
use Rattle.mk_queries.specs.Queries.{rule_recipes}
use Rattle.mk_queries.specs.Texts.{recipe_text}
use Rattle.mk_queries.proofs.PutLemmas.{PutSoFar}
use Rattle.mk_queries.proofs.query.recipes.put_recipes.Given as goal

abbrev pub invariant-lines : goal.invariant-lines
invariant-lines g l =
    PutSoFar g.W.ByteSink.contents g.W.ByteSink.failed g.W.ByteSink.flushes l.initial.out l.out l.initial.gathered.items l.gathered.items (flat_map (recipe_text (rule_spot l.rule)) l.line-iterator) (rule_recipes (rule_spot l.rule))
