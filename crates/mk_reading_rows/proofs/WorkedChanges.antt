-- Worked rows: which lines lean on the flag, and the lines that a new line leaves, computed on texts whose answers are known.
use Rattle.std.proofs.Common.{◌≡◌, refl, ℕ, List, [], ◌∷◌, map, true, false}
use Rattle.std.specs.Prelude.{codes}
use Rattle.mk_lines.specs.PhysicalLines.{file_line_end}
use Rattle.mk_class.specs.RecipePrefix.{tab}
use Rattle.mk_class.specs.ClassedLines.{ClassedLine, classed_lines}
use Rattle.mk_class.specs.declared.context.RuleFlag.TheVariants.{Off, Rule, Unknown}
use Rattle.mk_tree.specs.Leaning.{leans}
use Rattle.mk_tree.specs.NewLineEnds.{above_ended, missing_line_end}

-- the texts of some lines
abbrev texts : List ClassedLine → List (List ℕ)
texts ls = map (λ l. l.bytes) ls

-- ---- leaning

a_tab_led_line_leans : leans tab Off Rule (classed_lines (codes "\tX = 1\n")) ≡ true
a_tab_led_line_leans = refl

it_does_so_after_blank_lines_comments_and_conditionals : leans tab Off Rule (classed_lines (codes "\n# c\nifdef A\n\tX = 1\n")) ≡ true
it_does_so_after_blank_lines_comments_and_conditionals = refl

it_does_not_after_another_line : leans tab Off Rule (classed_lines (codes "Y = 2\n\tX = 1\n")) ≡ false
it_does_not_after_another_line = refl

a_tab_led_comment_leans : leans tab Rule Unknown (classed_lines (codes "\t# c\nY = 2\n")) ≡ true
a_tab_led_comment_leans = refl

no_line_leans_on_one_flag : leans tab Rule Rule (classed_lines (codes "\tX = 1\n")) ≡ false
no_line_leans_on_one_flag = refl

another_prefix_makes_other_lines_lean : leans 62 Off Rule (classed_lines (codes "\tX = 1\n>Y = 2\n")) ≡ false
another_prefix_makes_other_lines_lean = refl

a_line_that_begins_with_it_leans : leans 62 Off Rule (classed_lines (codes "\n>Y = 2\n")) ≡ true
a_line_that_begins_with_it_leans = refl

nothing_does_not_lean : leans tab Off Rule [] ≡ false
nothing_does_not_lean = refl

-- ---- the lines above a new line

-- the text of the lines above a new line at the end of a text
abbrev ended_texts : List ℕ → List (List ℕ)
ended_texts t = texts (above_ended (file_line_end t) (classed_lines t) [])

-- what is put before a new line at the end of a text
abbrev put_before : List ℕ → List ℕ
put_before t = missing_line_end (file_line_end t) (classed_lines t) []

a_last_line_gets_a_line_end : ended_texts (codes "A = 1\nB = 2") ≡ codes "A = 1\n" ∷ codes "B = 2\n" ∷ []
a_last_line_gets_a_line_end = refl

that_of_the_first_line : ended_texts (codes "A = 1\r\nB = 2") ≡ codes "A = 1\r\n" ∷ codes "B = 2\r\n" ∷ []
that_of_the_first_line = refl

the_only_line_gets_a_line_feed : put_before (codes "B = 2") ≡ codes "\n"
the_only_line_gets_a_line_feed = refl

a_line_with_a_line_end_stays : ended_texts (codes "A = 1\r\nB = 2\n") ≡ codes "A = 1\r\n" ∷ codes "B = 2\n" ∷ []
a_line_with_a_line_end_stays = refl

nothing_is_put_into_no_text : put_before [] ≡ []
nothing_is_put_into_no_text = refl

nothing_is_put_between_lines : missing_line_end (file_line_end (codes "A = 1\nB = 2")) (classed_lines (codes "A = 1")) (classed_lines (codes "B = 2")) ≡ []
nothing_is_put_between_lines = refl
