-- What is shown after all that can be undone was undone.
-- Told in docs/PROTOCOL.md, "Requests".
use Rattle.std.specs.Prelude.{ℕ, List, [], ◌∷◌}
use Rattle.mk_history.specs.Shown.{Shown}

-- what is shown after an undo for each of the texts that undoing leads back through
abbrev undone_through : Shown (List ℕ) → (back : List (List ℕ)) → Shown (List ℕ)
undone_through s [] = s
undone_through s (text ∷ back) =
    undone_through (record s { text = text; back = back; forward = s.text ∷ s.forward }) back

abbrev pub undone : Shown (List ℕ) → Shown (List ℕ)
undone s = undone_through s s.back
