use Rattle.std.proofs.Common.{rules, ◌≡◌, refl, sym, ap, ◌∙◌, List, [], ◌∷◌, ℕ, length}
use Rattle.std.specs.Prelude.{◌==◌}
use Rattle.mk_lines.specs.Lists.{concat}
use Rattle.mk_lines.specs.LogicalLines.{logical_lines}
use Rattle.mk_lines.proofs.on_lines.LineLemmas.{concat-logical_lines}
use Rattle.mk_edit_language.specs.LineChanges.{is_one}
use Rattle.mk_edit.proofs.change_line.is_one_line.Goals as goal

-- a text that begins with a logical line is that line if nothing follows
one-by_rest : (l q : List ℕ) → is_one (l ∷ logical_lines q) ≡ (length q == 0)
one-by_rest l [] = refl
one-by_rest l (b ∷ q) = go (logical_lines (b ∷ q)) (concat-logical_lines (b ∷ q))
  where
    go : (ls : List (List ℕ)) → concat ls ≡ b ∷ q → is_one (l ∷ ls) ≡ (length (b ∷ q) == 0)
    go [] h = absurd (cc)
    go (m ∷ ms) h = search rules

pub returns-in-Some : goal.returns-in-Some
returns-in-Some c =
    let k : logical_lines c.args.text.now ≡ c.in-Some.field-0-0.now ∷ logical_lines c.in-Some.after.now = c.in-Some.ensures.lines in
    c.is_empty.ensures ∙ (sym (one-by_rest c.in-Some.field-0-0.now c.in-Some.after.now) ∙ ap is_one (sym k))
