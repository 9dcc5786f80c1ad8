-- How operators and separators are written.
-- Told in docs/LANGUAGE.md, chapters 2 and 3.
use Rattle.std.specs.Prelude.{ℕ, List, codes}
use Rattle.mk_class.specs.declared.assignment.Flavor.{Flavor}
use Rattle.mk_class.specs.declared.assignment.Flavor.TheVariants.{Recursive, Simple, PosixSimple, Immediate, Conditional, Append, Shell}
use Rattle.mk_class.specs.declared.rule.Separator.{Separator}
use Rattle.mk_class.specs.declared.rule.Separator.TheVariants.{SingleColon, DoubleColon, GroupedColon, GroupedDoubleColon}

-- the operator of an assignment
abbrev pub operator_text : Flavor → List ℕ
operator_text Recursive = codes "="
operator_text Simple = codes ":="
operator_text PosixSimple = codes "::="
operator_text Immediate = codes ":::="
operator_text Conditional = codes "?="
operator_text Append = codes "+="
operator_text Shell = codes "!="

-- what stands between the targets and the prerequisites of a rule
abbrev pub separator_text : Separator → List ℕ
separator_text SingleColon = codes ":"
separator_text DoubleColon = codes "::"
separator_text GroupedColon = codes "&:"
separator_text GroupedDoubleColon = codes "&::"
