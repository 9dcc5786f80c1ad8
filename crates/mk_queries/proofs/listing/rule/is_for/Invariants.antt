-- The target is one of all targets if it is one of those that are left.
use Rattle.std.proofs.Common.{◌≡◌}
use Rattle.mk_class.specs.Texts.{is_one_of}
use Rattle.mk_queries.proofs.listing.rule.is_for.Given as goal

abbrev pub invariant-targets : goal.invariant-targets
invariant-targets l = is_one_of l.target l.fn.rule.targets ≡ is_one_of l.target l.word-iterator
