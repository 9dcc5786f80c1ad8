-- The lines on what was passed were put, and those on what is ahead are to come.
use Rattle.std.specs.List.{flat_map}
use Rattle.mk_queries.specs.Texts.{rule_text}
use Rattle.mk_queries.proofs.PutLemmas.{PutSoFar}
use Rattle.mk_queries.proofs.query.rules.write_rules.Given as goal

abbrev pub invariant-rules : goal.invariant-rules
invariant-rules g l =
    PutSoFar g.W.ByteSink.contents g.W.ByteSink.failed g.W.ByteSink.flushes l.initial.out l.out l.initial.gathered.items l.gathered.items (flat_map rule_text l.rule-iterator) (flat_map rule_text l.fn.rules)
