-- The rest of the rows has what the table has.
use Rattle.std.proofs.Common.{◌≡◌, length, map}
use Rattle.mk_script.specs.WordReading.{named, word_text, words}
use Rattle.mk_script.proofs.table.row_of.Given as goal

abbrev pub invariant-loop-rows : goal.invariant-loop-rows
invariant-loop-rows l = named (map (λ row. (row.2, word_text row.0.now)) l.rows) l.word ≡ named words l.word

abbrev pub decreases-loop-rows : goal.decreases-loop-rows
decreases-loop-rows l = length l.rows
