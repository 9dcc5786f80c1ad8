-- The lines of a text, each with a name before it.
use Rattle.std.proofs.Common.{◌≡◌, ◌∙◌, ap, sym, ℕ, List, ◌∷◌, ◌++◌, append_assoc, take, drop}
use Rattle.mk_lines.specs.PhysicalLines.{physical_lines}
use Rattle.mkedit.specs.NamedLines.{each_named, named_line, named_lines}

-- one more line behind those that are there
pub named-step : (whole items named name rest line after : List ℕ) (n : ℕ) → physical_lines rest ≡ take n rest ∷ physical_lines (drop n rest)
    → whole ≡ items ++ named_lines name rest → line ≡ take n rest → after ≡ drop n rest → named ≡ items ++ named_line name line
    → whole ≡ named ++ named_lines name after
named-step whole items named name rest line after n cut before l a first =
    let end = named_lines name (drop n rest) in
    before
    ∙ (ap (λ ls. items ++ each_named name ls) cut
    ∙ (sym (append_assoc items (named_line name (take n rest)) end)
    ∙ (ap (λ t. (items ++ named_line name t) ++ end) (sym l)
    ∙ (ap (λ t. t ++ end) (sym first)
    ∙ ap (λ t. named ++ named_lines name t) (sym a)))))
