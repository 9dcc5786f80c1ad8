use Rattle.std.proofs.Common.{◌+◌, ◌-◌, arith, ap}
use Rattle.mk_tree.specs.LocatedLines.{size_of}
use Rattle.mk_tree.proofs.OriginLemmas.{last-between, three-sizes}
use Rattle.mk_tree.proofs.document.Doc.sizes_around.Goals as goal

pub overflow_sub-result : goal.overflow_sub-result
overflow_sub-result g c =
    omega (arith, three-sizes c.args.from c.args.count c.args.self.now, c.bytes_between-between.ensures.bytes, c.self.invariant.1, ap size_of c.self.view_is)

pub overflow_sub-result-then-from-behind : goal.overflow_sub-result-then-from-behind
overflow_sub-result-then-from-behind g c =
    omega (arith, three-sizes c.args.from c.args.count c.args.self.now, c.bytes_between-between.ensures.bytes, c.bytes_between-before.ensures.bytes, c.self.invariant.1, ap size_of c.self.view_is)

pub returns-then-from-behind-clause-after : goal.returns-then-from-behind-clause-after
returns-then-from-behind-clause-after g c =
    omega (arith, three-sizes c.args.from c.args.count c.args.self.now, c.bytes_between-between.ensures.bytes, c.bytes_between-before.ensures.bytes, c.self.invariant.1, ap size_of c.self.view_is)

pub overflow_sub-result-else-from-behind : goal.overflow_sub-result-else-from-behind
overflow_sub-result-else-from-behind g c =
    omega (arith, three-sizes c.args.from c.args.count c.args.self.now, c.bytes_between-between.ensures.bytes, c.self.invariant.1, ap size_of c.self.view_is)

pub returns-else-from-behind-clause-before : goal.returns-else-from-behind-clause-before
returns-else-from-behind-clause-before g c =
    let last = last-between (c.args.from + c.args.count) (c.len.result - c.args.from - c.args.count) c.args.self.now (omega (arith, c.len.ensures.number, c.requires.in_range)) in
    omega (arith, three-sizes c.args.from c.args.count c.args.self.now, c.bytes_between-between.ensures.bytes, c.bytes_between-after.ensures.bytes, ap size_of last, c.self.invariant.1, ap size_of c.self.view_is)

pub overflow_sub-result-else-from-behind-2 : goal.overflow_sub-result-else-from-behind-2
overflow_sub-result-else-from-behind-2 g c =
    let last = last-between (c.args.from + c.args.count) (c.len.result - c.args.from - c.args.count) c.args.self.now (omega (arith, c.len.ensures.number, c.requires.in_range)) in
    omega (arith, three-sizes c.args.from c.args.count c.args.self.now, c.bytes_between-between.ensures.bytes, c.bytes_between-after.ensures.bytes, ap size_of last, c.self.invariant.1, ap size_of c.self.view_is)
