-- The rest of the table has what the whole table has.
use Rattle.std.proofs.Common.{◌≡◌, length, map}
use Rattle.mk_script.specs.WordReading.{named}
use Rattle.mk_repl.proofs.request.named.Given as goal

abbrev pub invariant-loop-table : goal.invariant-loop-table
invariant-loop-table g l = named (map (λ row. (row.0, row.1.now)) l.table) l.word ≡ named (map (λ row. (row.0, row.1.now)) l.fn.table) l.word

abbrev pub decreases-loop-table : goal.decreases-loop-table
decreases-loop-table g l = length l.table
