-- Worked rows: the recipe lines of headers, and faithful documents, computed on texts whose answers are known.
use Rattle.std.proofs.Common.{◌≡◌, refl, ℕ, List, [], ◌∷◌, map}
use Rattle.std.specs.Prelude.{codes, drop}
use Rattle.mk_class.specs.ClassedLines.{ClassedLine, classed_lines}
use Rattle.mk_tree.specs.Documents.{text_of, most_conditionals}
use Rattle.mk_tree.specs.RecipeLines.{recipe_lines, recipe_run, after_recipe}

-- the texts of some lines
abbrev texts : List ClassedLine → List (List ℕ)
texts ls = map (λ l. l.bytes) ls

-- the lines of a text after the first
abbrev after_first_line : List ℕ → List ClassedLine
after_first_line t = drop 1 (classed_lines t)

-- ---- recipe lines

blank_and_comment_lines_among_recipe_lines : texts (recipe_lines (after_first_line (codes "foo:\n\ta\n\n# c\n\tb\n# d\nX = 1\n\tc\n"))) ≡ codes "\ta\n" ∷ codes "\tb\n" ∷ []
blank_and_comment_lines_among_recipe_lines = refl

the_run_ends_with_the_last_recipe_line : texts (recipe_run (after_first_line (codes "foo:\n\ta\n\n# c\n\tb\n# d\nX = 1\n\tc\n"))) ≡ codes "\ta\n" ∷ codes "\n" ∷ codes "# c\n" ∷ codes "\tb\n" ∷ []
the_run_ends_with_the_last_recipe_line = refl

after_the_last_recipe_line : texts (after_recipe (after_first_line (codes "foo:\n\ta\n# d\nX = 1\n"))) ≡ codes "# d\n" ∷ codes "X = 1\n" ∷ []
after_the_last_recipe_line = refl

recipe_lines_in_a_conditional : texts (recipe_lines (after_first_line (codes "foo:\nifdef A\n\tx\nelse\n\ty\nendif\n"))) ≡ codes "\tx\n" ∷ codes "\ty\n" ∷ []
recipe_lines_in_a_conditional = refl

the_next_header_ends_a_rule : texts (recipe_lines (after_first_line (codes "foo:\n\tx\nbar:\n\ty\n"))) ≡ codes "\tx\n" ∷ []
the_next_header_ends_a_rule = refl

an_opaque_line_ends_a_rule : texts (recipe_lines (after_first_line (codes "foo:\n\tx\n$(call f)\n\ty\n"))) ≡ codes "\tx\n" ∷ []
an_opaque_line_ends_a_rule = refl

a_rough_line_ends_a_rule : texts (recipe_lines (after_first_line (codes "foo:\n\tx\nbar: a\\ b\n\ty\n"))) ≡ codes "\tx\n" ∷ []
a_rough_line_ends_a_rule = refl

a_header_without_recipe_lines : texts (recipe_lines (after_first_line (codes "foo:\nifdef A\nendif\n"))) ≡ []
a_header_without_recipe_lines = refl

recipe_lines_under_another_prefix : texts (recipe_lines (drop 2 (classed_lines (codes ".RECIPEPREFIX = >\nfoo:\n>a\n\tb: c\n>d\n")))) ≡ codes ">a\n" ∷ []
recipe_lines_under_another_prefix = refl

-- ---- documents

the_text_of_its_lines : text_of (classed_lines (codes "A = \\\n1\r\n\nfoo:\n\tx")) ≡ codes "A = \\\n1\r\n\nfoo:\n\tx"
the_text_of_its_lines = refl

conditionals_side_by_side : most_conditionals 0 (classed_lines (codes "ifdef A\nendif\nifdef B\nendif\n")) ≡ 1
conditionals_side_by_side = refl

conditionals_in_one_another : most_conditionals 0 (classed_lines (codes "ifdef A\nifdef B\nendif\nifdef C\nelse\n")) ≡ 2
conditionals_in_one_another = refl

an_endif_that_closes_nothing : most_conditionals 0 (classed_lines (codes "endif\nendif\nifdef A\n")) ≡ 1
an_endif_that_closes_nothing = refl
