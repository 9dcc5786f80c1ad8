-- The last of the words that are left ends where the last word does.
use Rattle.std.proofs.Common.{◌≡◌}
use Rattle.mk_edit_parts.specs.WordCuts.{last_end}
use Rattle.mk_edit.proofs.change_line.trimmed.Given as goal

abbrev pub invariant-words : goal.invariant-words
invariant-words l =
    goal.iterator-words.can_next l.word-iterator × goal.iterator-words.is_finite l.word-iterator
    × (last_end l.end l.word-iterator ≡ last_end l.initial.end l.initial.word-iterator)
