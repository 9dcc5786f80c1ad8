-- Queries and their texts. Made by `tests/definitions/query_rows.py tests/cases/queries.tsv`.
use Rattle.std.proofs.Common.{◌≡◌, refl, [], None}
use Rattle.std.specs.Prelude.{codes}
use Rattle.std.specs.Fmt.{digits}
use Rattle.mk_tree.specs.Documents.{document_lines}
use Rattle.mk_queries.specs.Queries.{vars_text, rules_text, recipes_text, check_text}

row_vars_of_an_empty_file : vars_text None (document_lines []) ≡ []
unfolding digits
row_vars_of_an_empty_file = refl

row_vars_of_a_tab_led_assignment : vars_text None (document_lines (codes "foo:\nX = 1\n\tY = 2\n")) ≡ (codes "2:0: X = 1\n3:0: Y = 2\n")
unfolding digits
row_vars_of_a_tab_led_assignment = refl

row_check_lists_opaque_lines : check_text (document_lines (codes "$(call t,x)\n\tZ = 1\n")) ≡ (codes "1: opaque\n2: opaque\n")
unfolding digits
row_check_lists_opaque_lines = refl

row_check_lists_a_rough_line : check_text (document_lines (codes "| a: b\n")) ≡ (codes "1: rough\n")
unfolding digits
row_check_lists_a_rough_line = refl

row_rules_with_a_reference : rules_text None (document_lines (codes "X = 1\na b:: $(subst x y,z,w) c\n")) ≡ (codes "2:0: a b:: $(subst x y,z,w) c [0]\n")
unfolding digits
row_rules_with_a_reference = refl

row_vars_with_a_depth_a_modifier_and_a_target : vars_text None (document_lines (codes "ifdef A\nexport CC ?= gcc  # c\nendif\nfoo: X += 1\nY :=\n")) ≡ (codes "2:1: export CC ?= gcc\n4:0: foo: X += 1\n5:0: Y :=\n")
unfolding digits
row_vars_with_a_depth_a_modifier_and_a_target = refl

row_rules_with_order_only_words_a_pattern_and_an_inline_recipe : rules_text None (document_lines (codes "%.o: %.c | out\n\tcc\nx.o y.o: %.o: %.c\nfoo &: a ; b\n")) ≡ (codes "1:0: %.o: %.c | out [1]\n3:0: x.o y.o: %.o: %.c [0]\n4:0: foo&: a [1]\n")
unfolding digits
row_rules_with_order_only_words_a_pattern_and_an_inline_recipe = refl

row_check_counts_open_conditionals : check_text (document_lines (codes "foo: a\\ b\nbar: x y=1\nifdef A\n")) ≡ (codes "1: rough\n2: rough\nend: conditionals 1\n")
unfolding digits
row_check_counts_open_conditionals = refl

row_check_of_a_stray_endif : check_text (document_lines (codes "endif\n\tX = 1\n")) ≡ (codes "1: opaque\n2: opaque\n")
unfolding digits
row_check_of_a_stray_endif = refl

row_check_counts_open_defines : check_text (document_lines (codes "define A\ndefine B\nendef\n")) ≡ (codes "end: defines 1\n")
unfolding digits
row_check_counts_open_defines = refl

row_check_lists_a_line_with_a_nul : check_text (document_lines (codes "A=1\0\nB=2\n")) ≡ (codes "1: opaque\n")
unfolding digits
row_check_lists_a_line_with_a_nul = refl

row_check_lists_a_line_with_a_stray_return : check_text (document_lines (codes "A=1\r2\n")) ≡ (codes "1: opaque\n")
unfolding digits
row_check_lists_a_line_with_a_stray_return = refl

row_check_lists_a_bad_fold : check_text (document_lines (codes "A=1\\\\\\\n2\n")) ≡ (codes "1: opaque\n")
unfolding digits
row_check_lists_a_bad_fold = refl

row_recipes_of_an_empty_file : recipes_text None (document_lines []) ≡ []
unfolding digits
row_recipes_of_an_empty_file = refl

row_recipes_by_their_numbers : recipes_text None (document_lines (codes "a b: c ; x\n\ty\n\n# d\n\tz \\\n\tw\n")) ≡ (codes "1:0: a b:\n2:0: [1] y\n5:0: [2] z w\n")
unfolding digits
row_recipes_by_their_numbers = refl

row_recipes_among_conditionals : recipes_text None (document_lines (codes "a:\n\tx\nifdef B\n\ty\nelse\n\tz\nendif\n\tw\n")) ≡ (codes "1:0: a:\n2:0: [1] x\n4:1: [2] y\n6:1: [3] z\n8:0: [4] w\n")
unfolding digits
row_recipes_among_conditionals = refl

row_recipes_of_one_rule_after_the_other : recipes_text None (document_lines (codes "a:\n\tx\nb::\n\ty\nX = 1\n\tZ = 2\nc:\n")) ≡ (codes "1:0: a:\n2:0: [1] x\n3:0: b::\n4:0: [1] y\n")
unfolding digits
row_recipes_of_one_rule_after_the_other = refl

row_recipes_below_a_rough_line_have_no_number : recipes_text None (document_lines (codes "a:\n\tx\n| b: c\n\ty\n")) ≡ (codes "1:0: a:\n2:0: [1] x\n")
unfolding digits
row_recipes_below_a_rough_line_have_no_number = refl

row_recipes_with_another_prefix : recipes_text None (document_lines (codes ".RECIPEPREFIX = >\n%.o: %.c\n> cc $<\n>\n")) ≡ (codes "2:0: %.o:\n3:0: [1]  cc $<\n4:0: [2] \n")
unfolding digits
row_recipes_with_another_prefix = refl

row_recipes_of_a_target_with_a_reference : recipes_text None (document_lines (codes "a $(b c):\n\t$(call x, y)\n")) ≡ (codes "1:0: a $(b c):\n2:0: [1] $(call x, y)\n")
unfolding digits
row_recipes_of_a_target_with_a_reference = refl
