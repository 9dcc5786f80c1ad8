-- The lines so far, and those that are ahead, are all.
use Rattle.std.proofs.Common.{◌≡◌, ◌+◌, ◌≤◌, length}
use Rattle.mk_lines.specs.Limits.{max_text}
use Rattle.mk_queries.specs.Counting.{is_counted}
use Rattle.mk_queries.specs.Numbers.{count_down_to}
use Rattle.mk_queries.proofs.listing.number.count.Given as goal

abbrev pub invariant-lines : goal.invariant-lines
invariant-lines g l =
    (l.count + count_down_to l.above (is_counted l.fn.counted) l.line-iterator ≡ count_down_to l.fn.index (is_counted l.fn.counted) l.fn.lines)
    × (l.count + length l.line-iterator ≤ max_text)
