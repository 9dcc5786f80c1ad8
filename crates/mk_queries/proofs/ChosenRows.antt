-- Queries and their texts. Made by `tests/definitions/query_rows.py tests/cases/chosen-queries.tsv`.
use Rattle.std.proofs.Common.{◌≡◌, refl, [], Some}
use Rattle.std.specs.Prelude.{codes}
use Rattle.std.specs.Fmt.{digits}
use Rattle.mk_tree.specs.Documents.{document_lines}
use Rattle.mk_queries.specs.Queries.{vars_text, rules_text, recipes_text}

row_vars_of_one_name : vars_text (Some (codes "A")) (document_lines (codes "A = 1\nB = 2\nA := 3\n")) ≡ (codes "1:0: A = 1\n3:0: A := 3\n")
unfolding digits
row_vars_of_one_name = refl

row_vars_of_one_name_in_each_branch : vars_text (Some (codes "A")) (document_lines (codes "ifdef X\nA = 1\nelse\nA = 2\nB = 3\nendif\n")) ≡ (codes "2:1: A = 1\n4:1: A = 2\n")
unfolding digits
row_vars_of_one_name_in_each_branch = refl

row_vars_of_one_name_for_targets_too : vars_text (Some (codes "A")) (document_lines (codes "all: A = 1\na b: override A += 2 # c\nb: B = 1\n")) ≡ (codes "1:0: all: A = 1\n2:0: a b: override A += 2\n")
unfolding digits
row_vars_of_one_name_for_targets_too = refl

row_vars_of_a_name_that_no_line_has : vars_text (Some (codes "C")) (document_lines (codes "A = 1\nB = C\nC: A = 1\n")) ≡ []
unfolding digits
row_vars_of_a_name_that_no_line_has = refl

row_vars_of_a_name_that_is_a_reference : vars_text (Some (codes "$(A)")) (document_lines (codes "$(A) = 1\nA = 2\n")) ≡ (codes "1:0: $(A) = 1\n")
unfolding digits
row_vars_of_a_name_that_is_a_reference = refl

row_vars_of_a_name_that_begins_another : vars_text (Some (codes "A")) (document_lines (codes "AB = 1\nA = 2\nBA = 3\n")) ≡ (codes "2:0: A = 2\n")
unfolding digits
row_vars_of_a_name_that_begins_another = refl

row_vars_of_an_empty_name : vars_text (Some []) (document_lines (codes "A = 1\nB =\n")) ≡ []
unfolding digits
row_vars_of_an_empty_name = refl

row_vars_of_one_name_in_a_define_are_none : vars_text (Some (codes "A")) (document_lines (codes "define A\nA = 1\nendef\nA = 2\n")) ≡ (codes "4:0: A = 2\n")
unfolding digits
row_vars_of_one_name_in_a_define_are_none = refl

row_vars_of_one_name_with_a_fold : vars_text (Some (codes "A")) (document_lines (codes "B = 1 \\\n  A = 2\nA \\\n  = 3 \\\n  4\n")) ≡ (codes "3:0: A = 3 4\n")
unfolding digits
row_vars_of_one_name_with_a_fold = refl

row_vars_of_one_name_with_a_modifier : vars_text (Some (codes "A")) (document_lines (codes "export A = 1\nexport B = 2\n")) ≡ (codes "1:0: export A = 1\n")
unfolding digits
row_vars_of_one_name_with_a_modifier = refl

row_rules_for_one_target : rules_text (Some (codes "a")) (document_lines (codes "a: b\n\tx\nb: c\n\ty\n\tz\na: d\n")) ≡ (codes "1:0: a: b [1]\n6:0: a: d [0]\n")
unfolding digits
row_rules_for_one_target = refl

row_rules_for_one_of_several_targets : rules_text (Some (codes "b")) (document_lines (codes "a b: c\nb:: d ; e\nc d&: b\n")) ≡ (codes "1:0: a b: c [0]\n2:0: b:: d [1]\n")
unfolding digits
row_rules_for_one_of_several_targets = refl

row_rules_for_one_target_have_the_recipe_lines_of_no_other : rules_text (Some (codes "a")) (document_lines (codes "b:\n\tx\na:\n\ty\nc:\n\tz\n")) ≡ (codes "3:0: a: [1]\n")
unfolding digits
row_rules_for_one_target_have_the_recipe_lines_of_no_other = refl

row_rules_for_a_target_that_is_a_pattern : rules_text (Some (codes "%.o")) (document_lines (codes "%.o: %.c\nx.o: %.o: %.c\n")) ≡ (codes "1:0: %.o: %.c [0]\n")
unfolding digits
row_rules_for_a_target_that_is_a_pattern = refl

row_rules_for_one_target_in_a_conditional : rules_text (Some (codes "a")) (document_lines (codes "ifdef A\na: b | c\nendif\n")) ≡ (codes "2:1: a: b | c [0]\n")
unfolding digits
row_rules_for_one_target_in_a_conditional = refl

row_rules_for_a_prerequisite_are_none : rules_text (Some (codes "b")) (document_lines (codes "a: b\nc: | b\n")) ≡ []
unfolding digits
row_rules_for_a_prerequisite_are_none = refl

row_rules_for_one_target_below_a_conditional : rules_text (Some (codes "b")) (document_lines (codes "a:\n\tx\nifdef B\nb:\n\ty\nendif\n\tz\n")) ≡ (codes "4:1: b: [2]\n")
unfolding digits
row_rules_for_one_target_below_a_conditional = refl

row_rules_for_one_target_above_a_conditional : rules_text (Some (codes "a")) (document_lines (codes "a:\n\tx\nifdef B\nb:\n\ty\nendif\n\tz\n")) ≡ (codes "1:0: a: [1]\n")
unfolding digits
row_rules_for_one_target_above_a_conditional = refl

row_rules_for_the_targets_of_an_assignment_are_none : rules_text (Some (codes "a")) (document_lines (codes "a: X = 1\na: b\n")) ≡ (codes "2:0: a: b [0]\n")
unfolding digits
row_rules_for_the_targets_of_an_assignment_are_none = refl

row_rules_for_an_empty_target : rules_text (Some []) (document_lines (codes "a: b\n: c\n")) ≡ []
unfolding digits
row_rules_for_an_empty_target = refl

row_recipes_for_one_target : recipes_text (Some (codes "a")) (document_lines (codes "a:\n\tx\nb c:\n\ty\n\tz\na:\n\tw\n")) ≡ (codes "1:0: a:\n2:0: [1] x\n6:0: a:\n7:0: [1] w\n")
unfolding digits
row_recipes_for_one_target = refl

row_recipes_for_one_of_several_targets : recipes_text (Some (codes "c")) (document_lines (codes "a:\n\tx\nb c:\n\ty\n\tz\na:\n\tw\n")) ≡ (codes "3:0: b c:\n4:0: [1] y\n5:0: [2] z\n")
unfolding digits
row_recipes_for_one_of_several_targets = refl

row_recipes_for_one_target_are_those_of_no_other : recipes_text (Some (codes "a")) (document_lines (codes "a:\n\tx\nb:\n\ty\n\nifdef C\n\tz\nendif\n")) ≡ (codes "1:0: a:\n2:0: [1] x\n")
unfolding digits
row_recipes_for_one_target_are_those_of_no_other = refl

row_recipes_for_one_target_without_its_inline_recipe : recipes_text (Some (codes "a")) (document_lines (codes "a: ; x\n\ty\nb: ; z\n")) ≡ (codes "1:0: a:\n2:0: [1] y\n")
unfolding digits
row_recipes_for_one_target_without_its_inline_recipe = refl

row_recipes_for_one_target_below_a_rough_line : recipes_text (Some (codes "a")) (document_lines (codes "a:\n\tx\n| b: c\n\ty\n")) ≡ (codes "1:0: a:\n2:0: [1] x\n")
unfolding digits
row_recipes_for_one_target_below_a_rough_line = refl

row_recipes_for_a_prerequisite_are_none : recipes_text (Some (codes "b")) (document_lines (codes "a: b\n\tx\n")) ≡ []
unfolding digits
row_recipes_for_a_prerequisite_are_none = refl

row_recipes_for_one_target_among_conditionals : recipes_text (Some (codes "b")) (document_lines (codes "a:\n\tw\nb:\n\tx\nifdef C\n\ty\nelse\n\tz\nendif\n")) ≡ (codes "3:0: b:\n4:0: [1] x\n6:1: [2] y\n8:1: [3] z\n")
unfolding digits
row_recipes_for_one_target_among_conditionals = refl
