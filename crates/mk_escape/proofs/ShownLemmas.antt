-- The first byte of a text as it is shown, and the others behind it.
use Rattle.std.proofs.Common.{◌≡◌, ◌≤◌, refl, arith, ℕ, Bool, List, [], ◌∷◌, ◌++◌, length, drop, get_or}
use Rattle.mk_escape.specs.Escapes.{byte_shown, control_after, left_after, second, shown_on}
use Rattle.mk_escape.specs.declared.Layout.{Layout}

pub shown-step : (layout : Layout) (left : ℕ) (control : Bool) (s : List ℕ) → 1 ≤ length s
    → shown_on layout left control s
    ≡ byte_shown (control_after layout left control (get_or s 0 0) s) (get_or s 0 0)
    ++ shown_on layout (left_after left (get_or s 0 0) (second s)) (control_after layout left control (get_or s 0 0) s) (drop 1 s)
shown-step layout left control [] h = absurd (omega arith)
shown-step layout left control (b ∷ text) h = refl
