use Rattle.std.proofs.Common.{rules, refl}
use Rattle.std.specs.List.{flat_map}
use Rattle.std.specs.Prelude.{option_map}
use Rattle.mk_queries.specs.Listings.{standing}
use Rattle.mk_queries.specs.Queries.{variable_line}
use Rattle.mk_tree.specs.Trees.{line_view}
use Rattle.mk_queries.proofs.VariableLemmas.{said-standing}
use Rattle.mk_tree.proofs.Prefixes.{writes-gathered}
use Rattle.mk_queries.proofs.PutLemmas.{put-done, put-more, put-nothing, put-unwritten}
use Rattle.mk_queries.proofs.query.vars.write_vars.Goals as goal

pub lines-init : goal.lines-init
lines-init g c = put-nothing (search rules) c.requires refl

pub lines-preserved : goal.lines-preserved
lines-preserved g c = put-more (said-standing (λ s. variable_line (option_map (λ word. word.now) c.args.name) s.position s.line) c.lines.position-iterator c.next.new.self c.in-Some.position (line_view c.in-Some.line.now) c.in-Some.ensures.steps) c.lines.invariant c.in_ok-put_variable.ensures

pub returns-in_err-put_variable : goal.returns-in_err-put_variable
returns-in_err-put_variable g c = put-unwritten (flat_map (λ s. variable_line (option_map (λ word. word.now) c.args.name) s.position s.line) (standing c.next.new.self)) (said-standing (λ s. variable_line (option_map (λ word. word.now) c.args.name) s.position s.line) c.lines.position-iterator c.next.new.self c.in-Some.position (line_view c.in-Some.line.now) c.in-Some.ensures.steps) c.lines.invariant c.new-gathered.ensures c.from_residual.ensures.1 c.in_err-put_variable.ensures

pub returns : goal.returns
returns g c = writes-gathered c.new-gathered.ensures c.deref.ensures.0 (put-done (search rules) c.lines.invariant) c.write_all.ensures
