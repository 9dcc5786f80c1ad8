-- Texts and their readings. Made by `tests/definitions/reading_rows.py tests/cases/readings/worked.tsv`.
use Rattle.std.proofs.Common.{◌≡◌, refl, [], ◌∷◌, Some, None}
use Rattle.std.specs.Prelude.{codes}
use Rattle.mk_class.specs.declared.assignment.Flavor.TheVariants.{Recursive}
use Rattle.mk_class.specs.declared.assignment.Modifier.TheVariants.{Override}
use Rattle.mk_class.specs.declared.rule.Separator.TheVariants.{SingleColon, GroupedColon}
use Rattle.mk_tree.specs.Readings.{reading}
use Rattle.mk_tree.specs.Items.{Sets}
use Rattle.mk_tree.specs.Items.Item.{Assign, TargetAssign, Header, Recipe, Endef, Body, Opaque, DefineHead, If, Endif, Rough}

row_a_value_folded_twice : reading (codes "X = a \\\n \\\n b\n") ≡ Assign (Sets [] (codes "X") Recursive (codes "a b")) ∷ []
row_a_value_folded_twice = refl

row_a_bad_fold_is_opaque : reading (codes "X = a\\\\ \\\n b\n") ≡ Opaque (codes "X = a\\\\ \\\n b") ∷ []
row_a_bad_fold_is_opaque = refl

row_a_bad_fold_in_a_comment : reading (codes "# a\\\\\\\nX = 1\n") ≡ []
row_a_bad_fold_in_a_comment = refl

row_a_value_of_one_backslash : reading (codes "X = \\\n") ≡ Assign (Sets [] (codes "X") Recursive (codes "\\")) ∷ []
row_a_value_of_one_backslash = refl

row_a_tab_led_line_with_a_fold : reading (codes "\t\\\nX = 1\n") ≡ Assign (Sets [] (codes "X") Recursive (codes "1")) ∷ []
row_a_tab_led_line_with_a_fold = refl

row_a_recipe_line_with_a_fold : reading (codes "a:\n\t\\\n\tb\n") ≡ Header ((codes "a") ∷ []) SingleColon [] [] [] None ∷ Recipe (codes "\\\n\tb") ∷ []
row_a_recipe_line_with_a_fold = refl

row_endef_on_a_continued_line : reading (codes "define D\nx \\\nendef\nendef\n") ≡ DefineHead (codes "define D") ∷ Body (codes "x \\\nendef") ∷ Endef (codes "endef") ∷ []
row_endef_on_a_continued_line = refl

row_a_comment_with_a_nul : reading (codes "# a\0\n") ≡ []
row_a_comment_with_a_nul = refl

row_a_stray_carriage_return : reading (codes "\r\r\n") ≡ Opaque (codes "\r") ∷ []
row_a_stray_carriage_return = refl

row_a_second_separator_of_two_colons : reading (codes "a: b:: c\n") ≡ Rough (codes "a: b:: c") ∷ []
row_a_second_separator_of_two_colons = refl

row_a_pattern_that_ends_in_an_ampersand : reading (codes "a: b&: c\n") ≡ Header ((codes "a") ∷ []) SingleColon ((codes "b&") ∷ []) ((codes "c") ∷ []) [] None ∷ []
row_a_pattern_that_ends_in_an_ampersand = refl

row_a_target_with_an_escape_before_an_assignment : reading (codes "a\\ b: X = 1\n") ≡ TargetAssign ((codes "a\\ b") ∷ []) SingleColon (Sets [] (codes "X") Recursive (codes "1")) ∷ []
row_a_target_with_an_escape_before_an_assignment = refl

row_no_target_before_a_colon : reading (codes ": b\n") ≡ Header [] SingleColon [] ((codes "b") ∷ []) [] None ∷ []
row_no_target_before_a_colon = refl

row_no_target_before_a_grouped_colon : reading (codes "&: b\n") ≡ Header [] GroupedColon [] ((codes "b") ∷ []) [] None ∷ []
row_no_target_before_a_grouped_colon = refl

row_an_ampersand_before_a_grouped_colon : reading (codes "a&&: b\n") ≡ Header ((codes "a&") ∷ []) GroupedColon [] ((codes "b") ∷ []) [] None ∷ []
row_an_ampersand_before_a_grouped_colon = refl

row_an_ampersand_apart_from_the_colon : reading (codes "& : b\n") ≡ Header ((codes "&") ∷ []) SingleColon [] ((codes "b") ∷ []) [] None ∷ []
row_an_ampersand_apart_from_the_colon = refl

row_an_empty_inline_recipe : reading (codes "a: b ;\n") ≡ Header ((codes "a") ∷ []) SingleColon [] ((codes "b") ∷ []) [] (Some []) ∷ []
row_an_empty_inline_recipe = refl

row_a_comment_before_a_semicolon : reading (codes "a: b # ; c\n") ≡ Header ((codes "a") ∷ []) SingleColon [] ((codes "b") ∷ []) [] None ∷ []
row_a_comment_before_a_semicolon = refl

row_an_inline_recipe_with_a_fold : reading (codes "a: ; \\\n c\n") ≡ Header ((codes "a") ∷ []) SingleColon [] [] [] (Some (codes " \\\n c")) ∷ []
row_an_inline_recipe_with_a_fold = refl

row_a_modifier_as_a_target : reading (codes "override a: X = 1\n") ≡ TargetAssign ((codes "override") ∷ (codes "a") ∷ []) SingleColon (Sets [] (codes "X") Recursive (codes "1")) ∷ []
row_a_modifier_as_a_target = refl

row_a_semicolon_before_the_first_colon : reading (codes "a;b: X = 1\n") ≡ Opaque (codes "a;b: X = 1") ∷ []
row_a_semicolon_before_the_first_colon = refl

row_a_bar_after_a_pattern : reading (codes "a: b: | c\n") ≡ Header ((codes "a") ∷ []) SingleColon ((codes "b") ∷ []) [] ((codes "c") ∷ []) None ∷ []
row_a_bar_after_a_pattern = refl

row_a_variable_named_define : reading (codes "define = 1\n") ≡ Assign (Sets [] (codes "define") Recursive (codes "1")) ∷ []
row_a_variable_named_define = refl

row_a_variable_named_define_with_a_modifier : reading (codes "override define = 1\n") ≡ Assign (Sets (Override ∷ []) (codes "define") Recursive (codes "1")) ∷ []
row_a_variable_named_define_with_a_modifier = refl

row_first_words_in_a_define : reading (codes "define D\ndefine = 1\nendef = 2\nendef x\n") ≡ DefineHead (codes "define D") ∷ Body (codes "define = 1") ∷ Body (codes "endef = 2") ∷ Endef (codes "endef x") ∷ []
row_first_words_in_a_define = refl

row_a_modifier_in_a_define : reading (codes "define D\noverride define E\nendef\n") ≡ DefineHead (codes "define D") ∷ Body (codes "override define E") ∷ Endef (codes "endef") ∷ []
row_a_modifier_in_a_define = refl

row_a_hash_glued_to_endef : reading (codes "define D\nendef#c\nendef # c\n") ≡ DefineHead (codes "define D") ∷ Body (codes "endef#c") ∷ Endef (codes "endef # c") ∷ []
row_a_hash_glued_to_endef = refl

row_a_hash_glued_to_endif : reading (codes "ifdef A\nendif#c\n") ≡ If (codes "ifdef A") ∷ Endif (codes "endif#c") ∷ []
row_a_hash_glued_to_endif = refl

row_a_define_in_a_conditional : reading (codes "ifdef A\ndefine D\nendif\nendef\nendif\n") ≡ If (codes "ifdef A") ∷ DefineHead (codes "define D") ∷ Body (codes "endif") ∷ Endef (codes "endef") ∷ Endif (codes "endif") ∷ []
row_a_define_in_a_conditional = refl

row_endif_as_a_target : reading (codes "endif : x\n") ≡ Header ((codes "endif") ∷ []) SingleColon [] ((codes "x") ∷ []) [] None ∷ []
row_endif_as_a_target = refl

row_endif_before_a_colon_in_a_conditional : reading (codes "ifdef A\nendif : x\n") ≡ If (codes "ifdef A") ∷ Endif (codes "endif : x") ∷ []
row_endif_before_a_colon_in_a_conditional = refl

row_a_modifier_alone : reading (codes "override X\n") ≡ Opaque (codes "override X") ∷ []
row_a_modifier_alone = refl

row_a_recipe_line_of_the_prefix_alone : reading (codes "a:\n\t\n") ≡ Header ((codes "a") ∷ []) SingleColon [] [] [] None ∷ Recipe [] ∷ []
row_a_recipe_line_of_the_prefix_alone = refl

row_a_tab_led_comment_after_an_opaque_line : reading (codes "$(x)\n\t# c\n") ≡ Opaque (codes "$(x)") ∷ Opaque (codes "\t# c") ∷ []
row_a_tab_led_comment_after_an_opaque_line = refl

row_tab_led_conditionals : reading (codes "\tifdef A\n\tendif\n") ≡ If (codes "\tifdef A") ∷ Endif (codes "\tendif") ∷ []
row_tab_led_conditionals = refl

row_a_prefix_led_assignment : reading (codes ".RECIPEPREFIX = >\n>X = 1\n") ≡ Assign (Sets [] (codes ".RECIPEPREFIX") Recursive (codes ">")) ∷ Assign (Sets [] (codes ">X") Recursive (codes "1")) ∷ []
row_a_prefix_led_assignment = refl

row_a_prefix_that_begins_endef : reading (codes ".RECIPEPREFIX = e\ndefine D\nendef\n") ≡ Assign (Sets [] (codes ".RECIPEPREFIX") Recursive (codes "e")) ∷ DefineHead (codes "define D") ∷ Body (codes "endef") ∷ []
row_a_prefix_that_begins_endef = refl

row_a_prefix_that_begins_endif : reading (codes ".RECIPEPREFIX = e\nifdef A\nendif\n") ≡ Assign (Sets [] (codes ".RECIPEPREFIX") Recursive (codes "e")) ∷ If (codes "ifdef A") ∷ Endif (codes "endif") ∷ []
row_a_prefix_that_begins_endif = refl

row_a_tab_led_line_sets_the_prefix : reading (codes "\t.RECIPEPREFIX = >\na:\n>b\n") ≡ Assign (Sets [] (codes ".RECIPEPREFIX") Recursive (codes ">")) ∷ Header ((codes "a") ∷ []) SingleColon [] [] [] None ∷ Recipe (codes "b") ∷ []
row_a_tab_led_line_sets_the_prefix = refl
