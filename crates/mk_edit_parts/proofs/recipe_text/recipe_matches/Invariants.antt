-- What the lines from here on add is what those from the header on say; no more are counted than were passed, and these lines are ahead.
use Rattle.std.proofs.Common.{◌≡◌, ◌≤◌, ◌+◌, drop}
use Rattle.mk_edit_parts.proofs.on_recipes.TextWalks.{matches_from, no_match}
use Rattle.mk_edit_parts.proofs.recipe_text.recipe_matches.Given as goal

abbrev pub invariant-lines : goal.invariant-lines
invariant-lines g l = (drop l.at l.doc ≡ l.lines) × (l.from + l.matches.count ≤ l.at) × (matches_from l.matches l.text l.at (drop l.at l.doc) ≡ matches_from no_match l.text l.from (drop l.from l.doc))
