-- A call that makes an edit of texts which it copies: what `Session::apply` says of the edit, and what
-- is left where a text finds no memory.
-- Told in docs/LIBRARY.md, "Making edits".
use Rattle.std.specs.Prelude.{◌≡◌, ◌⊎◌, ◌≤◌, ◌+◌, Result, Ok, Err}
use Rattle.mk_tree.specs.Counting.{AreCounted}
use Rattle.mk_edit_language.specs.Edits.{Edit}
use Rattle.mk_edit_language.specs.Costs.{cost}
use Rattle.mk_edit_language.specs.declared.refusal.Refusal.{Refusal}
use Rattle.mk_edit_language.specs.declared.refusal.Refusal.TheVariants.{NoMemory}
use Rattle.mk_history.specs.Machine.{Apply}
use Rattle.mk_session.specs.Sessions.{Seen, answer, IsEditRefusal}

-- An edit was made.
pub record IsMadeAs (e : Edit) (before after : Seen) : Type 0 where
  pub done : answer (Apply e) before.shown ≡ Ok after.shown
  pub counted : AreCounted before.rereads (cost before.shown.text e) after.rereads
  pub few_read : after.rereads ≤ before.rereads + cost before.shown.text e
  pub forward : before.rereads ≤ after.rereads

-- An edit was not made, for this refusal of it; or this is NoMemory, since a text found none, and
-- nothing was done.
pub record IsRefusedAs (e : Edit) (refusal : Refusal) (before after : Seen) : Type 0 where
  pub refused : IsEditRefusal e before.shown refusal ⊎ ((refusal ≡ NoMemory) × (after ≡ before))
  pub same : after.shown ≡ before.shown
  pub few_read : after.rereads ≤ before.rereads + cost before.shown.text e
  pub forward : before.rereads ≤ after.rereads

-- A call for an edit gave this back, and led from what was seen before it to what is seen after it. The
-- fields have the names of the clauses of `Session::apply`, and say the same.
abbrev pub IsApplied : Edit → Result (Unit {0}) Refusal → (before after : Seen) → Type 0
IsApplied e (Ok u) x y = IsMadeAs e x y
IsApplied e (Err r) x y = IsRefusedAs e r x y
