-- The blanks ahead are those from where the search has come to, and behind no blank before it the word may stand.
use Rattle.mk_edit_parts.proofs.on_renaming.WordGlances.{IsSearched}
use Rattle.mk_edit_parts.proofs.glance.first_blank.Given as goal

abbrev pub invariant-blanks : goal.invariant-blanks
invariant-blanks l =
    goal.iterator-blanks.can_next l.blank-iterator × goal.iterator-blanks.is_finite l.blank-iterator
    × IsSearched l.text l.word l.parts l.range.start l.blank-iterator
