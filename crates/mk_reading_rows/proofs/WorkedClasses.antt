-- Worked rows: the classes of lines and their contexts, the parts of assignments and headers, and the tests of arguments,
-- computed on texts whose answers are known.
use Rattle.std.proofs.Common.{◌≡◌, refl, [], ◌∷◌, true, false, Some, None}
use Rattle.std.specs.Prelude.{codes, map}
use Rattle.mk_lines.specs.Units.{units}
use Rattle.mk_class.specs.Assignments.{assignment}
use Rattle.mk_class.specs.Headers.{header}
use Rattle.mk_class.specs.Classes.Class.{DefineHead}
use Rattle.mk_class.specs.Contexts.{start}
use Rattle.mk_class.specs.ClassTable.{class_of}
use Rattle.mk_class.specs.Arguments.{is_value, is_word, is_target, is_name, is_command}
use Rattle.mk_class.specs.declared.assignment.Flavor.TheVariants.{Recursive, Simple, PosixSimple, Immediate, Conditional, Append, Shell}
use Rattle.mk_class.specs.declared.assignment.Modifier.TheVariants.{Override, Export, Private}
use Rattle.mk_class.specs.declared.rule.Separator.TheVariants.{SingleColon, GroupedDoubleColon}
use Rattle.mk_class.specs.declared.context.RuleFlag.TheVariants.{Off, Rule, Unknown}
use Rattle.mk_reading_rows.proofs.ClassNames.{class_names, contexts}

-- ---- classes, line by line

-- an assignment ends a rule, so that the line after it is no recipe line
led_after_an_assignment : class_names (codes "foo:\nX = 1\n\tY = 2\n") ≡ codes "Header" ∷ codes "Assign" ∷ codes "Assign" ∷ []
led_after_an_assignment = refl

a_define : class_names (codes "define D\nX = 1\n\tendef\nendef\n") ≡ codes "DefineHead" ∷ codes "Body" ∷ codes "Body" ∷ codes "Endef" ∷ []
a_define = refl

led_after_an_opaque_line : class_names (codes "$(call t,x)\n\tZ = 1\n") ≡ codes "Opaque" ∷ codes "Opaque" ∷ []
led_after_an_opaque_line = refl

endif_without_a_conditional : class_names (codes "endif\n\tX = 1\n") ≡ codes "Opaque" ∷ codes "Opaque" ∷ []
endif_without_a_conditional = refl

rules : class_names (codes "%.o: %.c | out\n\tcc\nx.o y.o: %.o: %.c\nfoo &: a ; b\n") ≡ codes "Header" ∷ codes "Recipe" ∷ codes "Header" ∷ codes "Header" ∷ []
rules = refl

rough_lines : class_names (codes "foo: a\\ b\nbar: x y=1\nifdef A\n") ≡ codes "Rough" ∷ codes "Rough" ∷ codes "If" ∷ []
rough_lines = refl

modifiers_and_directives : class_names (codes "export CC\nexport CC = 1\noverride define D\n") ≡ codes "Directive" ∷ codes "Assign" ∷ codes "DefineHead" ∷ []
modifiers_and_directives = refl

a_bar_glued_to_a_word : class_names (codes "foo: |b\nfoo: X = 1; 2\n") ≡ codes "Rough" ∷ codes "TargetAssign" ∷ []
a_bar_glued_to_a_word = refl

no_line : class_names ([]) ≡ []
no_line = refl

empty_lines : class_names (codes "\n\r\n \t\n") ≡ codes "Blank" ∷ codes "Blank" ∷ codes "Blank" ∷ []
empty_lines = refl

comments : class_names (codes "#\n # c\n\t# d\n") ≡ codes "Comment" ∷ codes "Comment" ∷ codes "Comment" ∷ []
comments = refl

-- ---- keywords and what looks like one

an_if_without_a_blank : class_names (codes "ifeq(a,b)\nifeq (a,b)\nifneq\nifndef X\n") ≡ codes "Opaque" ∷ codes "If" ∷ codes "If" ∷ codes "If" ∷ []
an_if_without_a_blank = refl

keywords_with_more_letters : class_names (codes "endifx\nxdefine A\ndefineX\nincludes a\nload2 b\nexports\n") ≡ codes "Opaque" ∷ codes "Opaque" ∷ codes "Opaque" ∷ codes "Opaque" ∷ codes "Opaque" ∷ codes "Opaque" ∷ []
keywords_with_more_letters = refl

keywords_in_capitals : class_names (codes "IFDEF A\nDefine D\nInclude x\n") ≡ codes "Opaque" ∷ codes "Opaque" ∷ codes "Opaque" ∷ []
keywords_in_capitals = refl

keywords_with_a_reference : class_names (codes "$(x)ifdef A\nifdef$(x) A\n${y}include z\n") ≡ codes "Opaque" ∷ codes "Opaque" ∷ codes "Opaque" ∷ []
keywords_with_a_reference = refl

an_escaped_keyword : class_names (codes "\\ifdef A\ni\\fdef A\n") ≡ codes "Opaque" ∷ codes "Opaque" ∷ []
an_escaped_keyword = refl

all_directives : class_names (codes "include a\n-include b\nsinclude c\nexport d\nunexport e\nundefine f\nvpath g\nload h\n-load i\n") ≡ codes "Directive" ∷ codes "Directive" ∷ codes "Directive" ∷ codes "Directive" ∷ codes "Directive" ∷ codes "Directive" ∷ codes "Directive" ∷ codes "Directive" ∷ codes "Directive" ∷ []
all_directives = refl

bare_directives : class_names (codes "include\nexport\nvpath\n") ≡ codes "Directive" ∷ codes "Directive" ∷ codes "Directive" ∷ []
bare_directives = refl

a_hash_ends_a_keyword : class_names (codes "include#c\nexport#c\nifdef#c\nendif#c\n") ≡ codes "Directive" ∷ codes "Directive" ∷ codes "If" ∷ codes "Endif" ∷ []
a_hash_ends_a_keyword = refl

a_colon_glued_to_a_keyword : class_names (codes "include: x\nifdef: y\ndefine: z\n") ≡ codes "Header" ∷ codes "Header" ∷ codes "Header" ∷ []
a_colon_glued_to_a_keyword = refl

a_colon_apart_from_a_keyword : class_names (codes "include : x\nifdef : y\nexport : z\ndefine : w\nendef\n") ≡ codes "Directive" ∷ codes "If" ∷ codes "Directive" ∷ codes "DefineHead" ∷ codes "Endef" ∷ []
a_colon_apart_from_a_keyword = refl

conditionals : class_names (codes "ifdef A\nelse ifdef B\nelse\nendif\nelse\nendif\n") ≡ codes "If" ∷ codes "Else" ∷ codes "Else" ∷ codes "Endif" ∷ codes "Opaque" ∷ codes "Opaque" ∷ []
conditionals = refl

conditionals_in_one_another : class_names (codes "ifdef A\nifeq (a,b)\nendif\nelse\nendif\nendif\n") ≡ codes "If" ∷ codes "If" ∷ codes "Endif" ∷ codes "Else" ∷ codes "Endif" ∷ codes "Opaque" ∷ []
conditionals_in_one_another = refl

indented_conditionals : class_names (codes "  ifdef A\n  else\n  endif\n") ≡ codes "If" ∷ codes "Else" ∷ codes "Endif" ∷ []
indented_conditionals = refl

modifiers_before_define : class_names (codes "override define D\nendef\nexport private override export define E\nendef\n") ≡ codes "DefineHead" ∷ codes "Endef" ∷ codes "DefineHead" ∷ codes "Endef" ∷ []
modifiers_before_define = refl

modifiers_before_undefine : class_names (codes "override undefine X\nprivate undefine Y\nundefine\n") ≡ codes "Directive" ∷ codes "Directive" ∷ codes "Directive" ∷ []
modifiers_before_undefine = refl

modifiers_before_other_words : class_names (codes "override include x\nprivate ifdef A\noverride endef\nexport include y\n") ≡ codes "Opaque" ∷ codes "Opaque" ∷ codes "Opaque" ∷ codes "Directive" ∷ []
modifiers_before_other_words = refl

modifiers_alone : class_names (codes "override\nprivate\noverride X\nprivate X Y\n") ≡ codes "Opaque" ∷ codes "Opaque" ∷ codes "Opaque" ∷ codes "Opaque" ∷ []
modifiers_alone = refl

-- ---- definitions come before keywords

variables_named_as_keywords : class_names (codes "define = 1\nifdef = x\nendif := x\ninclude = y\nelse += z\nexport = 1\noverride = 2\n") ≡ codes "Assign" ∷ codes "Assign" ∷ codes "Assign" ∷ codes "Assign" ∷ codes "Assign" ∷ codes "Assign" ∷ codes "Assign" ∷ []
variables_named_as_keywords = refl

modifiers_before_such_a_name : class_names (codes "override define = 1\nexport endef ?= 2\n") ≡ codes "Assign" ∷ codes "Assign" ∷ []
modifiers_before_such_a_name = refl

-- ---- in a define

define_in_a_define : class_names (codes "define D\ndefine = 1\nendef = 2\nendef x\nX = 1\n") ≡ codes "DefineHead" ∷ codes "Body" ∷ codes "Body" ∷ codes "Endef" ∷ codes "Assign" ∷ []
define_in_a_define = refl

no_modifiers_in_a_define : class_names (codes "define D\noverride define E\nendef\n") ≡ codes "DefineHead" ∷ codes "Body" ∷ codes "Endef" ∷ []
no_modifiers_in_a_define = refl

a_hash_glued_to_endef : class_names (codes "define D\nendef#c\nendef # c\n") ≡ codes "DefineHead" ∷ codes "Body" ∷ codes "Endef" ∷ []
a_hash_glued_to_endef = refl

no_rules_in_a_define : class_names (codes "define D\na: b\n\tx\n# c\n\nifdef A\nendef\n") ≡ codes "DefineHead" ∷ codes "Body" ∷ codes "Body" ∷ codes "Body" ∷ codes "Body" ∷ codes "Body" ∷ codes "Endef" ∷ []
no_rules_in_a_define = refl

conditionals_in_a_define : class_names (codes "ifdef A\ndefine D\nendif\nendef\nendif\n") ≡ codes "If" ∷ codes "DefineHead" ∷ codes "Body" ∷ codes "Endef" ∷ codes "Endif" ∷ []
conditionals_in_a_define = refl

an_empty_define_head : class_names (codes "define\nendef\n") ≡ codes "DefineHead" ∷ codes "Endef" ∷ []
an_empty_define_head = refl

-- the first word is read in the joined text
a_folded_endef : class_names (codes "define D\n\\\nendef\nX = 1\n") ≡ codes "DefineHead" ∷ codes "Endef" ∷ codes "Assign" ∷ []
a_folded_endef = refl

an_open_define : class_names (codes "define D\nX = 1\n") ≡ codes "DefineHead" ∷ codes "Body" ∷ []
an_open_define = refl

endef_outside_a_define : class_names (codes "endef\nendef : x\n") ≡ codes "Opaque" ∷ codes "Header" ∷ []
endef_outside_a_define = refl

a_bad_fold_in_a_define : class_names (codes "define D\na\\\\\\\nb\nendef\n") ≡ codes "DefineHead" ∷ codes "Body" ∷ codes "Endef" ∷ []
a_bad_fold_in_a_define = refl

-- ---- recipe lines

recipe_lines : class_names (codes "a:\n\tx\n\n# c\nifdef A\n\ty\nendif\n\tz\nX = 1\n\tY = 2\n") ≡ codes "Header" ∷ codes "Recipe" ∷ codes "Blank" ∷ codes "Comment" ∷ codes "If" ∷ codes "Recipe" ∷ codes "Endif" ∷ codes "Recipe" ∷ codes "Assign" ∷ codes "Assign" ∷ []
recipe_lines = refl

a_prefix_alone : class_names (codes "a:\n\t\n\t# c\n\t\tx\n") ≡ codes "Header" ∷ codes "Recipe" ∷ codes "Recipe" ∷ codes "Recipe" ∷ []
a_prefix_alone = refl

recipe_lines_after_a_rough_line : class_names (codes "a: b c=d\n\tx\n") ≡ codes "Rough" ∷ codes "Recipe" ∷ []
recipe_lines_after_a_rough_line = refl

no_recipe_line_after_a_target_assignment : class_names (codes "a: X = 1\n\ty\n") ≡ codes "TargetAssign" ∷ codes "Opaque" ∷ []
no_recipe_line_after_a_target_assignment = refl

a_comment_after_an_opaque_line : class_names (codes "$(x)\n\t# c\n\t\n# d\nX = 1\n\tY = 2\n") ≡ codes "Opaque" ∷ codes "Opaque" ∷ codes "Opaque" ∷ codes "Comment" ∷ codes "Assign" ∷ codes "Assign" ∷ []
a_comment_after_an_opaque_line = refl

-- after the first line, it is not known whether a rule is open
a_led_rule_without_a_rule : class_names (codes "\ta: b\n\tinclude x\n\tX = 1\n") ≡ codes "Opaque" ∷ codes "Opaque" ∷ codes "Opaque" ∷ []
a_led_rule_without_a_rule = refl

led_directives_without_a_rule : class_names (codes "\tifdef A\n\tendif\n\tdefine D\nendef\n\tinclude x\n") ≡ codes "If" ∷ codes "Endif" ∷ codes "DefineHead" ∷ codes "Endef" ∷ codes "Directive" ∷ []
led_directives_without_a_rule = refl

a_directive_ends_a_rule : class_names (codes "a:\ninclude x\n\tX = 1\n") ≡ codes "Header" ∷ codes "Directive" ∷ codes "Assign" ∷ []
a_directive_ends_a_rule = refl

a_recipe_line_with_a_bad_fold : class_names (codes "a:\n\tx\\\\\\\ny\n") ≡ codes "Header" ∷ codes "Recipe" ∷ []
a_recipe_line_with_a_bad_fold = refl

a_recipe_line_with_a_nul : class_names (codes "a:\n\tx\0\n") ≡ codes "Header" ∷ codes "Recipe" ∷ []
a_recipe_line_with_a_nul = refl

-- a line is led by its first raw byte
a_fold_before_a_tab : class_names (codes "\\\n\tX = 1\n") ≡ codes "Assign" ∷ []
a_fold_before_a_tab = refl

a_tab_before_a_fold : class_names (codes "a:\n\t\\\nX = 1\n") ≡ codes "Header" ∷ codes "Recipe" ∷ []
a_tab_before_a_fold = refl

-- ---- stray bytes and bad folds

stray_bytes : class_names (codes "A=1\0\nB=1\r2\n# c\0\n\r\r\n") ≡ codes "Opaque" ∷ codes "Opaque" ∷ codes "Comment" ∷ codes "Opaque" ∷ []
stray_bytes = refl

a_bad_fold : class_names (codes "A=1\\\\\\\n2\nB=2\n") ≡ codes "Opaque" ∷ codes "Assign" ∷ []
a_bad_fold = refl

a_bad_fold_after_blanks : class_names (codes "X = a\\\\ \\\n b\n") ≡ codes "Opaque" ∷ []
a_bad_fold_after_blanks = refl

a_bad_fold_in_a_comment : class_names (codes "# a\\\\\\\nX = 1\n") ≡ codes "Comment" ∷ []
a_bad_fold_in_a_comment = refl

a_fold_as_a_blank : class_names (codes "\\\n \n") ≡ codes "Blank" ∷ []
a_fold_as_a_blank = refl

-- ---- rule lines

separators : class_names (codes "a: b\na:: b\na&: b\na &:: b\na:: c: d\na&: c: d\n") ≡ codes "Header" ∷ codes "Header" ∷ codes "Header" ∷ codes "Header" ∷ codes "Rough" ∷ codes "Rough" ∷ []
separators = refl

three_separators : class_names (codes "a: b: c\na: b: c: d\na: b:: c\na:::b\n") ≡ codes "Header" ∷ codes "Rough" ∷ codes "Rough" ∷ codes "Rough" ∷ []
three_separators = refl

patterns : class_names (codes "a: b c: d\na: : d\na: b&: c\na: | : b\na: b: | c\n") ≡ codes "Rough" ∷ codes "Rough" ∷ codes "Header" ∷ codes "Rough" ∷ codes "Header" ∷ []
patterns = refl

bars : class_names (codes "a: b | c\na: b|c\na: b | c | d\na | b: c\na: b |\na:|\na:| b\na: |b\na: b| c\n") ≡ codes "Header" ∷ codes "Rough" ∷ codes "Rough" ∷ codes "Rough" ∷ codes "Header" ∷ codes "Header" ∷ codes "Header" ∷ codes "Rough" ∷ codes "Rough" ∷ []
bars = refl

words_of_a_header : class_names (codes "a\\ b: c\na: b\\\\\na: $\na: $(x\na: $ b\na: $\\b\na: $x $(y) ${z} $$\na=b: c\n") ≡ codes "Rough" ∷ codes "Rough" ∷ codes "Rough" ∷ codes "Rough" ∷ codes "Rough" ∷ codes "Rough" ∷ codes "Header" ∷ codes "Assign" ∷ []
words_of_a_header = refl

equals_in_a_header : class_names (codes "a: b c=d\na&: b = c\na b = c: d\na: b = c: d\n") ≡ codes "Rough" ∷ codes "Rough" ∷ codes "Rough" ∷ codes "TargetAssign" ∷ []
equals_in_a_header = refl

what_follows_the_head : class_names (codes "a: b ; c=d | e : f \\g\na: b # c=d\na ; b: c\n") ≡ codes "Header" ∷ codes "Header" ∷ codes "Opaque" ∷ []
what_follows_the_head = refl

no_targets : class_names (codes ": b\n&: b\n: X = 1\n:\n") ≡ codes "Header" ∷ codes "Header" ∷ codes "TargetAssign" ∷ codes "Header" ∷ []
no_targets = refl

target_assignments : class_names (codes "a: X = 1\na:: X := 1\na&: X = 1\na: X = 1; 2\na: override X += 1\na: X = 1 # c\n") ≡ codes "TargetAssign" ∷ codes "TargetAssign" ∷ codes "Rough" ∷ codes "TargetAssign" ∷ codes "TargetAssign" ∷ codes "TargetAssign" ∷ []
target_assignments = refl

-- the targets of a target assignment may be words that those of a header may not
targets_of_a_target_assignment : class_names (codes "a\\ b: X = 1\na | b: X = 1\noverride a: X = 1\na $ b: X = 1\n") ≡ codes "TargetAssign" ∷ codes "TargetAssign" ∷ codes "TargetAssign" ∷ codes "TargetAssign" ∷ []
targets_of_a_target_assignment = refl

a_semicolon_in_a_name : class_names (codes "X;Y = 1\na: X;Y = 1\n") ≡ codes "Opaque" ∷ codes "Header" ∷ []
a_semicolon_in_a_name = refl

-- ---- the recipe prefix

a_prefix : class_names (codes ".RECIPEPREFIX = >\nfoo:\n>echo\n\techo\n") ≡ codes "Assign" ∷ codes "Header" ∷ codes "Recipe" ∷ codes "Opaque" ∷ []
a_prefix = refl

a_prefix_that_is_taken_back : class_names (codes ".RECIPEPREFIX = >\nfoo:\n>a\n.RECIPEPREFIX =\nbar:\n\tb\n") ≡ codes "Assign" ∷ codes "Header" ∷ codes "Recipe" ∷ codes "Assign" ∷ codes "Header" ∷ codes "Recipe" ∷ []
a_prefix_that_is_taken_back = refl

a_prefix_holds_from_the_next_line_on : class_names (codes "a:\n.RECIPEPREFIX = .\n.x\n") ≡ codes "Header" ∷ codes "Assign" ∷ codes "Opaque" ∷ []
a_prefix_holds_from_the_next_line_on = refl

a_prefix_that_begins_a_rule : class_names (codes ".RECIPEPREFIX = f\nfoo: a\nX = 1\n") ≡ codes "Assign" ∷ codes "Opaque" ∷ codes "Assign" ∷ []
a_prefix_that_begins_a_rule = refl

tabs_under_another_prefix : class_names (codes ".RECIPEPREFIX = >\n\tfoo: a\n\tX = 1\ndefine D\n\tendef\n>endef\nendef\n") ≡ codes "Assign" ∷ codes "Header" ∷ codes "Assign" ∷ codes "DefineHead" ∷ codes "Endef" ∷ codes "Opaque" ∷ codes "Opaque" ∷ []
tabs_under_another_prefix = refl

a_prefix_that_hides_endef : class_names (codes ".RECIPEPREFIX = e\ndefine D\nendef\n") ≡ codes "Assign" ∷ codes "DefineHead" ∷ codes "Body" ∷ []
a_prefix_that_hides_endef = refl

a_prefix_that_hides_no_endif : class_names (codes ".RECIPEPREFIX = e\nifdef A\nendif\n") ≡ codes "Assign" ∷ codes "If" ∷ codes "Endif" ∷ []
a_prefix_that_hides_no_endif = refl

-- ---- contexts

context_of_rules : contexts (codes "a:\n\tx\n\n# c\nX = 1\n") ≡ record { flag = Rule; defines = 0; conditionals = 0; prefix = 9 } ∷ record { flag = Rule; defines = 0; conditionals = 0; prefix = 9 } ∷ record { flag = Rule; defines = 0; conditionals = 0; prefix = 9 } ∷ record { flag = Rule; defines = 0; conditionals = 0; prefix = 9 } ∷ record { flag = Off; defines = 0; conditionals = 0; prefix = 9 } ∷ []
context_of_rules = refl

context_of_opaque_lines : contexts (codes "$(x)\nifdef A\na: b c=d\na: X = 1\n") ≡ record { flag = Unknown; defines = 0; conditionals = 0; prefix = 9 } ∷ record { flag = Unknown; defines = 0; conditionals = 1; prefix = 9 } ∷ record { flag = Rule; defines = 0; conditionals = 1; prefix = 9 } ∷ record { flag = Off; defines = 0; conditionals = 1; prefix = 9 } ∷ []
context_of_opaque_lines = refl

context_of_defines : contexts (codes "a:\ndefine D\ndefine E\nendef\nx\nendef\n") ≡ record { flag = Rule; defines = 0; conditionals = 0; prefix = 9 } ∷ record { flag = Off; defines = 1; conditionals = 0; prefix = 9 } ∷ record { flag = Off; defines = 2; conditionals = 0; prefix = 9 } ∷ record { flag = Off; defines = 1; conditionals = 0; prefix = 9 } ∷ record { flag = Off; defines = 1; conditionals = 0; prefix = 9 } ∷ record { flag = Off; defines = 0; conditionals = 0; prefix = 9 } ∷ []
context_of_defines = refl

context_of_conditionals : contexts (codes "ifdef A\nifdef B\nendif\nelse\nendif\n") ≡ record { flag = Off; defines = 0; conditionals = 1; prefix = 9 } ∷ record { flag = Off; defines = 0; conditionals = 2; prefix = 9 } ∷ record { flag = Off; defines = 0; conditionals = 1; prefix = 9 } ∷ record { flag = Off; defines = 0; conditionals = 1; prefix = 9 } ∷ record { flag = Off; defines = 0; conditionals = 0; prefix = 9 } ∷ []
context_of_conditionals = refl

context_of_prefixes : contexts (codes ".RECIPEPREFIX = >\n.RECIPEPREFIX := +x\n.RECIPEPREFIX ::= !\n.RECIPEPREFIX =\n") ≡ record { flag = Off; defines = 0; conditionals = 0; prefix = 62 } ∷ record { flag = Off; defines = 0; conditionals = 0; prefix = 43 } ∷ record { flag = Off; defines = 0; conditionals = 0; prefix = 33 } ∷ record { flag = Off; defines = 0; conditionals = 0; prefix = 9 } ∷ []
context_of_prefixes = refl

prefixes_that_are_not_read : contexts (codes ".RECIPEPREFIX ?= >\n.RECIPEPREFIX += >\n.RECIPEPREFIX :::= >\noverride .RECIPEPREFIX = >\n.RECIPEPREFIX = $(x)\n.RECIPEPREFIX = \\\\\n.RECIPEPREFIX != >\na: .RECIPEPREFIX = >\n") ≡ record { flag = Off; defines = 0; conditionals = 0; prefix = 9 } ∷ record { flag = Off; defines = 0; conditionals = 0; prefix = 9 } ∷ record { flag = Off; defines = 0; conditionals = 0; prefix = 9 } ∷ record { flag = Off; defines = 0; conditionals = 0; prefix = 9 } ∷ record { flag = Off; defines = 0; conditionals = 0; prefix = 9 } ∷ record { flag = Off; defines = 0; conditionals = 0; prefix = 9 } ∷ record { flag = Off; defines = 0; conditionals = 0; prefix = 9 } ∷ record { flag = Off; defines = 0; conditionals = 0; prefix = 9 } ∷ []
prefixes_that_are_not_read = refl

a_prefix_in_a_conditional : contexts (codes "ifdef A\n.RECIPEPREFIX = >\nendif\n") ≡ record { flag = Off; defines = 0; conditionals = 1; prefix = 9 } ∷ record { flag = Off; defines = 0; conditionals = 1; prefix = 9 } ∷ record { flag = Off; defines = 0; conditionals = 0; prefix = 9 } ∷ []
a_prefix_in_a_conditional = refl

a_prefix_set_by_a_led_line : contexts (codes "\t.RECIPEPREFIX = >\na:\n>b\n") ≡ record { flag = Off; defines = 0; conditionals = 0; prefix = 62 } ∷ record { flag = Rule; defines = 0; conditionals = 0; prefix = 62 } ∷ record { flag = Rule; defines = 0; conditionals = 0; prefix = 62 } ∷ []
a_prefix_set_by_a_led_line = refl

-- ---- whether a define is one of the prefix

a_define_of_the_prefix : class_of start (codes "override define .RECIPEPREFIX =\n") ≡ DefineHead true
a_define_of_the_prefix = refl

a_define_of_the_prefix_with_a_glued_operator : class_of start (codes "define .RECIPEPREFIX=\n") ≡ DefineHead false
a_define_of_the_prefix_with_a_glued_operator = refl

a_define_of_another_name : class_of start (codes "define D .RECIPEPREFIX\n") ≡ DefineHead false
a_define_of_another_name = refl

a_define_without_a_name : class_of start (codes "define\n") ≡ DefineHead false
a_define_without_a_name = refl

-- ---- the parts of assignments

recursive : assignment (λ b. b) (units (λ b. b) (codes "X = 1 ")) ≡ Some (record { modifiers = []; flavor = Recursive; before = []; name = codes "X" ∷ []; operator = codes " " ∷ codes "=" ∷ codes " " ∷ []; value = codes "1" ∷ []; after = codes " " ∷ [] })
recursive = refl

simple : assignment (λ b. b) (units (λ b. b) (codes "X:=1")) ≡ Some (record { modifiers = []; flavor = Simple; before = []; name = codes "X" ∷ []; operator = codes ":" ∷ codes "=" ∷ []; value = codes "1" ∷ []; after = [] })
simple = refl

posix_simple : assignment (λ b. b) (units (λ b. b) (codes "X ::= 1")) ≡ Some (record { modifiers = []; flavor = PosixSimple; before = []; name = codes "X" ∷ []; operator = codes " " ∷ codes ":" ∷ codes ":" ∷ codes "=" ∷ codes " " ∷ []; value = codes "1" ∷ []; after = [] })
posix_simple = refl

immediate : assignment (λ b. b) (units (λ b. b) (codes "X:::=1")) ≡ Some (record { modifiers = []; flavor = Immediate; before = []; name = codes "X" ∷ []; operator = codes ":" ∷ codes ":" ∷ codes ":" ∷ codes "=" ∷ []; value = codes "1" ∷ []; after = [] })
immediate = refl

conditional : assignment (λ b. b) (units (λ b. b) (codes "X?=1")) ≡ Some (record { modifiers = []; flavor = Conditional; before = []; name = codes "X" ∷ []; operator = codes "?" ∷ codes "=" ∷ []; value = codes "1" ∷ []; after = [] })
conditional = refl

append : assignment (λ b. b) (units (λ b. b) (codes "X+=1")) ≡ Some (record { modifiers = []; flavor = Append; before = []; name = codes "X" ∷ []; operator = codes "+" ∷ codes "=" ∷ []; value = codes "1" ∷ []; after = [] })
append = refl

shell : assignment (λ b. b) (units (λ b. b) (codes "X!=1")) ≡ Some (record { modifiers = []; flavor = Shell; before = []; name = codes "X" ∷ []; operator = codes "!" ∷ codes "=" ∷ []; value = codes "1" ∷ []; after = [] })
shell = refl

four_colons : assignment (λ b. b) (units (λ b. b) (codes "X::::=1")) ≡ None
four_colons = refl

a_plus_in_a_name : assignment (λ b. b) (units (λ b. b) (codes "a+b += 1")) ≡ Some (record { modifiers = []; flavor = Append; before = []; name = codes "a" ∷ codes "+" ∷ codes "b" ∷ []; operator = codes " " ∷ codes "+" ∷ codes "=" ∷ codes " " ∷ []; value = codes "1" ∷ []; after = [] })
a_plus_in_a_name = refl

a_name_that_ends_in_a_plus : assignment (λ b. b) (units (λ b. b) (codes "a++=1")) ≡ Some (record { modifiers = []; flavor = Append; before = []; name = codes "a" ∷ codes "+" ∷ []; operator = codes "+" ∷ codes "=" ∷ []; value = codes "1" ∷ []; after = [] })
a_name_that_ends_in_a_plus = refl

a_plus_apart_from_the_equals : assignment (λ b. b) (units (λ b. b) (codes "a+ = 1")) ≡ Some (record { modifiers = []; flavor = Recursive; before = []; name = codes "a" ∷ codes "+" ∷ []; operator = codes " " ∷ codes "=" ∷ codes " " ∷ []; value = codes "1" ∷ []; after = [] })
a_plus_apart_from_the_equals = refl

an_equals_in_the_value : assignment (λ b. b) (units (λ b. b) (codes "X == 1")) ≡ Some (record { modifiers = []; flavor = Recursive; before = []; name = codes "X" ∷ []; operator = codes " " ∷ codes "=" ∷ []; value = codes "=" ∷ codes " " ∷ codes "1" ∷ []; after = [] })
an_equals_in_the_value = refl

an_empty_value : assignment (λ b. b) (units (λ b. b) (codes " X =  ")) ≡ Some (record { modifiers = []; flavor = Recursive; before = codes " " ∷ []; name = codes "X" ∷ []; operator = codes " " ∷ codes "=" ∷ codes " " ∷ codes " " ∷ []; value = []; after = [] })
an_empty_value = refl

an_empty_name : assignment (λ b. b) (units (λ b. b) (codes " = 1")) ≡ None
an_empty_name = refl

no_operator : assignment (λ b. b) (units (λ b. b) (codes "X 1")) ≡ None
no_operator = refl

two_words_before_the_equals : assignment (λ b. b) (units (λ b. b) (codes "X Y = 1")) ≡ None
two_words_before_the_equals = refl

a_reference_in_a_name : assignment (λ b. b) (units (λ b. b) (codes "obj-$(X) = 1")) ≡ Some (record { modifiers = []; flavor = Recursive; before = []; name = codes "o" ∷ codes "b" ∷ codes "j" ∷ codes "-" ∷ codes "$(X)" ∷ []; operator = codes " " ∷ codes "=" ∷ codes " " ∷ []; value = codes "1" ∷ []; after = [] })
a_reference_in_a_name = refl

an_equals_in_a_reference : assignment (λ b. b) (units (λ b. b) (codes "$(a=b) = 1")) ≡ Some (record { modifiers = []; flavor = Recursive; before = []; name = codes "$(a=b)" ∷ []; operator = codes " " ∷ codes "=" ∷ codes " " ∷ []; value = codes "1" ∷ []; after = [] })
an_equals_in_a_reference = refl

an_escaped_equals : assignment (λ b. b) (units (λ b. b) (codes "a\\=b = 1")) ≡ Some (record { modifiers = []; flavor = Recursive; before = []; name = codes "a" ∷ codes "\\=" ∷ codes "b" ∷ []; operator = codes " " ∷ codes "=" ∷ codes " " ∷ []; value = codes "1" ∷ []; after = [] })
an_escaped_equals = refl

a_modifier : assignment (λ b. b) (units (λ b. b) (codes " export  X = 1")) ≡ Some (record { modifiers = Export ∷ []; flavor = Recursive; before = codes " " ∷ codes "e" ∷ codes "x" ∷ codes "p" ∷ codes "o" ∷ codes "r" ∷ codes "t" ∷ codes " " ∷ codes " " ∷ []; name = codes "X" ∷ []; operator = codes " " ∷ codes "=" ∷ codes " " ∷ []; value = codes "1" ∷ []; after = [] })
a_modifier = refl

three_modifiers : assignment (λ b. b) (units (λ b. b) (codes "private override export X=")) ≡ Some (record { modifiers = Private ∷ Override ∷ Export ∷ []; flavor = Recursive; before = codes "p" ∷ codes "r" ∷ codes "i" ∷ codes "v" ∷ codes "a" ∷ codes "t" ∷ codes "e" ∷ codes " " ∷ codes "o" ∷ codes "v" ∷ codes "e" ∷ codes "r" ∷ codes "r" ∷ codes "i" ∷ codes "d" ∷ codes "e" ∷ codes " " ∷ codes "e" ∷ codes "x" ∷ codes "p" ∷ codes "o" ∷ codes "r" ∷ codes "t" ∷ codes " " ∷ []; name = codes "X" ∷ []; operator = codes "=" ∷ []; value = []; after = [] })
three_modifiers = refl

a_modifier_as_a_name : assignment (λ b. b) (units (λ b. b) (codes "override override = 1")) ≡ Some (record { modifiers = Override ∷ []; flavor = Recursive; before = codes "o" ∷ codes "v" ∷ codes "e" ∷ codes "r" ∷ codes "r" ∷ codes "i" ∷ codes "d" ∷ codes "e" ∷ codes " " ∷ []; name = codes "o" ∷ codes "v" ∷ codes "e" ∷ codes "r" ∷ codes "r" ∷ codes "i" ∷ codes "d" ∷ codes "e" ∷ []; operator = codes " " ∷ codes "=" ∷ codes " " ∷ []; value = codes "1" ∷ []; after = [] })
a_modifier_as_a_name = refl

a_modifier_glued_to_an_operator : assignment (λ b. b) (units (λ b. b) (codes "export=1")) ≡ Some (record { modifiers = []; flavor = Recursive; before = []; name = codes "e" ∷ codes "x" ∷ codes "p" ∷ codes "o" ∷ codes "r" ∷ codes "t" ∷ []; operator = codes "=" ∷ []; value = codes "1" ∷ []; after = [] })
a_modifier_glued_to_an_operator = refl

blanks_inside_a_value : assignment (λ b. b) (units (λ b. b) (codes "X=  a  b  ")) ≡ Some (record { modifiers = []; flavor = Recursive; before = []; name = codes "X" ∷ []; operator = codes "=" ∷ codes " " ∷ codes " " ∷ []; value = codes "a" ∷ codes " " ∷ codes " " ∷ codes "b" ∷ []; after = codes " " ∷ codes " " ∷ [] })
blanks_inside_a_value = refl

a_semicolon_before_the_operator : assignment (λ b. b) (units (λ b. b) (codes "X;=1")) ≡ None
a_semicolon_before_the_operator = refl

-- ---- the parts of headers

a_header : header (λ b. b) (units (λ b. b) (codes "a b: c | d ;x#y")) ≡ record { separator = SingleColon; targets = codes "a" ∷ codes " " ∷ codes "b" ∷ []; colons = codes ":" ∷ []; pattern = []; second_colon = []; normal = codes " " ∷ codes "c" ∷ codes " " ∷ []; bar = codes "|" ∷ []; order_only = codes " " ∷ codes "d" ∷ codes " " ∷ []; tail = codes ";" ∷ codes "x" ∷ codes "#" ∷ codes "y" ∷ [] }
a_header = refl

a_pattern : header (λ b. b) (units (λ b. b) (codes "a:%:b#c")) ≡ record { separator = SingleColon; targets = codes "a" ∷ []; colons = codes ":" ∷ []; pattern = codes "%" ∷ []; second_colon = codes ":" ∷ []; normal = codes "b" ∷ []; bar = []; order_only = []; tail = codes "#" ∷ codes "c" ∷ [] }
a_pattern = refl

a_grouped_header : header (λ b. b) (units (λ b. b) (codes "a&&:: b")) ≡ record { separator = GroupedDoubleColon; targets = codes "a" ∷ codes "&" ∷ []; colons = codes "&" ∷ codes ":" ∷ codes ":" ∷ []; pattern = []; second_colon = []; normal = codes " " ∷ codes "b" ∷ []; bar = []; order_only = []; tail = [] }
a_grouped_header = refl

a_header_without_words : header (λ b. b) (units (λ b. b) (codes ":")) ≡ record { separator = SingleColon; targets = []; colons = codes ":" ∷ []; pattern = []; second_colon = []; normal = []; bar = []; order_only = []; tail = [] }
a_header_without_words = refl

-- ---- the tests of arguments

value_taken : map is_value ([] ∷ (codes "a") ∷ (codes "a b") ∷ (codes "$#") ∷ (codes "a$(p #)b") ∷ (codes "\\a") ∷ (codes "x\\\\y") ∷ (codes "$a") ∷ (codes "=:;|") ∷ (codes "a$\\b") ∷ (codes "\\#b") ∷ []) ≡ true ∷ true ∷ true ∷ true ∷ true ∷ true ∷ true ∷ true ∷ true ∷ true ∷ true ∷ []
value_taken = refl

value_refused : map is_value ((codes " a") ∷ (codes "a ") ∷ (codes "a\t") ∷ (codes "a #b") ∷ (codes "#") ∷ (codes "$(a") ∷ (codes "${)#}x${") ∷ (codes "a\\") ∷ (codes "a\\\\") ∷ (codes "a$") ∷ (codes "a\n") ∷ (codes "a\rb") ∷ (codes "a\0") ∷ (codes "a\\ ") ∷ (codes "a$ ") ∷ []) ≡ false ∷ false ∷ false ∷ false ∷ false ∷ false ∷ false ∷ false ∷ false ∷ false ∷ false ∷ false ∷ false ∷ false ∷ false ∷ []
value_refused = refl

word_taken : map is_word ((codes "a") ∷ (codes "$(b c)") ∷ (codes "b&") ∷ (codes "$|") ∷ (codes "$:") ∷ (codes "$=") ∷ (codes "$;") ∷ (codes "%.o") ∷ (codes "a/b") ∷ (codes "$$") ∷ (codes "-x") ∷ []) ≡ true ∷ true ∷ true ∷ true ∷ true ∷ true ∷ true ∷ true ∷ true ∷ true ∷ true ∷ []
word_taken = refl

word_refused : map is_word ([] ∷ (codes "a b") ∷ (codes "a:") ∷ (codes "a;b") ∷ (codes "a=b") ∷ (codes "a|b") ∷ (codes "#") ∷ (codes "a#b") ∷ (codes "\\a") ∷ (codes "a\\") ∷ (codes "$ b") ∷ (codes "$\\b") ∷ (codes "$") ∷ (codes "$(x") ∷ (codes "a\nb") ∷ (codes "a\0b") ∷ (codes "a\rb") ∷ (codes "\t") ∷ []) ≡ false ∷ false ∷ false ∷ false ∷ false ∷ false ∷ false ∷ false ∷ false ∷ false ∷ false ∷ false ∷ false ∷ false ∷ false ∷ false ∷ false ∷ false ∷ []
word_refused = refl

target_taken : map is_target ((codes "a") ∷ (codes "$(b c)") ∷ (codes "a&b") ∷ (codes "%.o") ∷ []) ≡ true ∷ true ∷ true ∷ true ∷ []
target_taken = refl

target_refused : map is_target ((codes "a&") ∷ (codes "&") ∷ (codes "$&") ∷ [] ∷ (codes "a b") ∷ (codes "a:") ∷ []) ≡ false ∷ false ∷ false ∷ false ∷ false ∷ false ∷ []
target_refused = refl

name_taken : map is_name ((codes "a") ∷ (codes "CC") ∷ (codes "x_9") ∷ (codes "-") ∷ (codes ".x") ∷ (codes "define") ∷ (codes "A.b-c") ∷ []) ≡ true ∷ true ∷ true ∷ true ∷ true ∷ true ∷ true ∷ []
name_taken = refl

name_refused : map is_name ([] ∷ (codes "a b") ∷ (codes "$(X)") ∷ (codes "a+") ∷ (codes "a:") ∷ (codes "é") ∷ (codes "a/b") ∷ (codes "a\n") ∷ []) ≡ false ∷ false ∷ false ∷ false ∷ false ∷ false ∷ false ∷ false ∷ []
name_refused = refl

command_taken : map is_command ([] ∷ (codes "a b") ∷ (codes "\ta") ∷ (codes " # x ") ∷ (codes "$(") ∷ (codes "a\\ ") ∷ (codes "echo \\\\x") ∷ []) ≡ true ∷ true ∷ true ∷ true ∷ true ∷ true ∷ true ∷ []
command_taken = refl

command_refused : map is_command ((codes "a\\") ∷ (codes "\\\\") ∷ (codes "a\nb") ∷ (codes "a\r") ∷ (codes "\0") ∷ []) ≡ false ∷ false ∷ false ∷ false ∷ false ∷ []
command_refused = refl
