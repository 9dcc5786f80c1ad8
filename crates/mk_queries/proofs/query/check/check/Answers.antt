use Rattle.std.proofs.Common.{rules, refl}
use Rattle.std.specs.List.{flat_map}
use Rattle.mk_queries.specs.Listings.{standing}
use Rattle.mk_queries.specs.Texts.{unread_text}
use Rattle.mk_tree.proofs.Prefixes.{gathers-front, gathers-then, writes-fails, writes-gathered}
use Rattle.mk_queries.proofs.PutLemmas.{gathers-as, put-done, put-fails, put-more, put-nothing}
use Rattle.mk_queries.proofs.query.check.check.Goals as goal

pub lines-init : goal.lines-init
lines-init g c = put-nothing (search rules) c.requires.works refl

pub lines-preserved : goal.lines-preserved
lines-preserved g c = put-more (search rules) c.lines.invariant c.in_ok-put_unread.ensures

pub returns-in_err-put_unread : goal.returns-in_err-put_unread
returns-in_err-put_unread g c =
    writes-fails {A = Unit {0}} c.new-gathered.ensures c.from_residual.ensures.1 (gathers-front _ (put-fails (flat_map (λ s. unread_text s.position.number s.line.class) (standing c.next.new.self)) (search rules) c.lines.invariant refl c.in_err-put_unread.ensures))

pub returns-in_err-put_end : goal.returns-in_err-put_end
returns-in_err-put_end g c =
    writes-fails c.new-gathered.ensures c.from_residual-in_err-put_end.ensures.1 (gathers-as (search rules) (gathers-then (put-done (search rules) c.lines.invariant) c.in_err-put_end.ensures))

pub returns : goal.returns
returns g c = writes-gathered c.new-gathered.ensures c.deref.ensures.0 (gathers-as (search rules) (gathers-then (put-done (search rules) c.lines.invariant) c.in_ok-put_end.ensures)) c.write_all.ensures
