-- Calls of a session in turn, all of which are granted.
-- Told in docs/LIBRARY.md, "Laws for callers".
use Rattle.std.specs.Prelude.{ℕ, List, [], ◌∷◌, ◌++◌, map, Result, Ok, Err}
use Rattle.mk_edit_language.specs.Edits.{Edit}
use Rattle.mk_edit_language.specs.declared.refusal.Refusal.{Refusal}
use Rattle.mk_history.specs.Machine as machine
use Rattle.mk_history.specs.Machine.{Command, Apply, Begin, End}
use Rattle.mk_history.specs.Shown.{Shown}
use Rattle.mk_session.specs.Sessions.{answer}

-- what is seen after calls in turn, or why the first of them that is refused is refused
abbrev pub answers : List (Command Edit) → Shown (List ℕ)
    → Result (Shown (List ℕ)) (machine.Refusal Refusal)
answers [] s = Ok s
answers (c ∷ cs) s = elim (answer c s) [ Ok t ↦ answers cs t | Err r ↦ Err r ]

-- the calls that make edits as one
abbrev pub as_group : List Edit → List (Command Edit)
as_group es = Begin ∷ map Apply es ++ End ∷ []
