-- The recipe lines of a header, by the lines after it.
-- Told in docs/LANGUAGE.md, chapter 4, and docs/EDITS.md, "Recipes".
use Rattle.std.specs.Prelude.{Bool, true, false, not, ◌||◌, List, length, drop, filter}
use Rattle.mk_lines.specs.Lists.{leading, trim_end}
use Rattle.mk_lines.specs.Cells.{Cell}
use Rattle.mk_class.specs.Classes.{Class, is_recipe, leaves_flag}
use Rattle.mk_class.specs.Classes.Class.{Rough, Header}
use Rattle.mk_class.specs.Contexts.{flag_after}
use Rattle.mk_class.specs.declared.context.RuleFlag.{RuleFlag}
use Rattle.mk_class.specs.declared.context.RuleFlag.TheVariants.{Rule}
use Rattle.mk_class.specs.ClassedLines.{ClassedLine}

-- whether a line of this class may stand among the recipe lines of a rule: a recipe line, or one
-- after which the flag is as before, which is a blank line, a comment or the line of a conditional
abbrev pub stays_in_rule : Class Cell → Bool
stays_in_rule k = is_recipe k || leaves_flag k

-- the lines after a header before the first that ends its rule. The last of them may be blank
-- lines, comments and lines of conditionals, which are no part of its recipe.
abbrev pub rule_lines : List ClassedLine → List ClassedLine
rule_lines after = leading (λ l. stays_in_rule l.class) after

-- the recipe lines of a header
abbrev pub recipe_lines : List ClassedLine → List ClassedLine
recipe_lines after = filter (λ l. is_recipe l.class) (rule_lines after)

-- the recipe of a header: the lines after it up to its last recipe line
abbrev pub recipe_run : List ClassedLine → List ClassedLine
recipe_run after = trim_end (λ l. not (is_recipe l.class)) (rule_lines after)

-- the lines after the last recipe line of a header
abbrev pub after_recipe : List ClassedLine → List ClassedLine
after_recipe after = drop (length (recipe_run after)) after

-- ---- the same, told by the flag

-- whether a line of this class begins a rule
abbrev begins_rule : Class Cell → Bool
begins_rule Rough = true
begins_rule (Header h) = true
begins_rule k = false

-- whether the flag says that a rule is open
abbrev is_rule_flag : RuleFlag → Bool
is_rule_flag Rule = true
is_rule_flag f = false

-- whether a line of this class ends the rule before it: it begins another rule, or sets the flag to
-- anything other than Rule
abbrev pub ends_rule : Class Cell → Bool
ends_rule k = begins_rule k || not (is_rule_flag (flag_after Rule k))
