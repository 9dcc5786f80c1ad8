-- The lines on what was passed were put, and those on what is ahead are to come.
use Rattle.std.specs.List.{flat_map}
use Rattle.mk_queries.specs.Listings.{standing, whole}
use Rattle.mk_queries.specs.Texts.{unread_text}
use Rattle.mk_queries.proofs.PutLemmas.{PutSoFar}
use Rattle.mk_queries.proofs.query.check.check.Given as goal

abbrev pub invariant-lines : goal.invariant-lines
invariant-lines g l =
    PutSoFar g.W.ByteSink.contents g.W.ByteSink.failed g.W.ByteSink.flushes l.initial.out l.out l.initial.gathered.items l.gathered.items (flat_map (λ s. unread_text s.position.number s.line.class) (standing l.position-iterator)) (flat_map (λ s. unread_text s.position.number s.line.class) (standing (whole l.doc)))
