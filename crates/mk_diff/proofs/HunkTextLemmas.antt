-- The text of a hunk, line by line.
use Rattle.std.proofs.Common.{◌≡◌, ℕ, ◌-◌, List, ◌∷◌, ◌++◌, length, sym, ap, ap₂, ◌∙◌, append_assoc}
use Rattle.mk_diff.specs.Hunks.{old_lines, new_lines}
use Rattle.mk_diff.specs.HunkTexts.{changes_text, header_text, hunk_text, signed_lines}
use Rattle.mk_diff.specs.Stretches.{Leads, between, changes_of, hunk_of, last_old_end, lines_text}
use Rattle.mk_diff.specs.declared.stretch.Stretch.{Stretch}
use Rattle.mk_diff.proofs.BetweenLemmas.{length-between}
use Rattle.mk_diff.proofs.LeadsLemmas.{Leads-order, old_of-between, new_of-between}

module _ (old new : List (List ℕ)) where
  -- one more change is in the text
  pub lines_text-more : (text start : List ℕ) (at : ℕ) (s : Stretch) (ss : List Stretch) (end : ℕ)
      → ((text ++ signed_lines 32 (between at s.old_start old)) ++ signed_lines 45 (between s.old_start s.old_end old)) ++ signed_lines 43 (between s.new_start s.new_end new) ≡ start
      → start ++ lines_text old new s.old_end ss end ≡ text ++ lines_text old new at (s ∷ ss) end
  lines_text-more text start at s ss end is =
      let above = signed_lines 32 (between at s.old_start old) in
      let removed = signed_lines 45 (between s.old_start s.old_end old) in
      let added = signed_lines 43 (between s.new_start s.new_end new) in
      let more = changes_text (changes_of old new s.old_end ss) in
      let below = signed_lines 32 (between (last_old_end s.old_end ss) end old) in
      ap (λ t. t ++ (more ++ below)) (sym is) ∙ simp append_assoc

  -- the numbers of a hunk
  pub hunk_text-is : (whole : Stretch) (changed : List Stretch) → Leads old new 0 whole.old_start whole.new_start changed whole.old_end whole.new_end
      → hunk_text (hunk_of old new whole changed)
      ≡ header_text whole.old_start (whole.old_end - whole.old_start) whole.new_start (whole.new_end - whole.new_start)
      ++ lines_text old new whole.old_start changed whole.old_end
  hunk_text-is whole changed h =
      let order = Leads-order old new 0 whole.old_start whole.new_start changed whole.old_end whole.new_end h in
      let old_count : length (old_lines (hunk_of old new whole changed)) ≡ whole.old_end - whole.old_start =
      ap length (old_of-between old new 0 whole.old_start whole.new_start changed whole.old_end whole.new_end h)
      ∙ length-between whole.old_start whole.old_end old order.0 order.2 in
      let new_count : length (new_lines (hunk_of old new whole changed)) ≡ whole.new_end - whole.new_start =
      ap length (new_of-between old new 0 whole.old_start whole.new_start changed whole.old_end whole.new_end h)
      ∙ length-between whole.new_start whole.new_end new order.1 order.3 in
      ap₂ (λ a b. header_text whole.old_start a whole.new_start b ++ lines_text old new whole.old_start changed whole.old_end) old_count new_count

-- a text in two parts
pub in-two : (text middle end first second whole : List ℕ) → middle ≡ text ++ first → whole ≡ first ++ second → end ≡ middle ++ second → end ≡ text ++ whole
in-two text middle end first second whole one all two =
    two ∙ ap (λ t. t ++ second) one ∙ append_assoc text first second ∙ ap (λ t. text ++ t) (sym all)
