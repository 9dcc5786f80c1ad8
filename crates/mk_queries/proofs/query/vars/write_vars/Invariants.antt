-- The lines on what was passed were put, and those on what is ahead are to come.
use Rattle.std.proofs.Common.{option_map}
use Rattle.std.specs.List.{flat_map}
use Rattle.mk_queries.specs.Listings.{standing}
use Rattle.mk_queries.specs.Queries.{variable_line, vars_text}
use Rattle.mk_queries.proofs.PutLemmas.{PutSoFar}
use Rattle.mk_queries.proofs.query.vars.write_vars.Given as goal

abbrev pub invariant-lines : goal.invariant-lines
invariant-lines g l =
    let name = option_map (λ word. word.now) l.name in
    PutSoFar g.W.ByteSink.contents g.W.ByteSink.failed g.W.ByteSink.flushes l.initial.out l.out l.initial.gathered.items l.gathered.items (flat_map (λ s. variable_line name s.position s.line) (standing l.position-iterator)) (vars_text name l.doc)
