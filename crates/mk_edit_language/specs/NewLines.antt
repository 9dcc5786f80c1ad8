-- New lines: their text, and the span that puts a new line in.
-- Told in docs/EDITS.md, "Addresses", "Variables", "Rules" and "Recipes".
use Rattle.std.specs.Prelude.{ℕ, List, [], ◌∷◌, ◌++◌, length}
use Rattle.mk_lines.specs.PhysicalLines.{line_end_bytes, file_line_end}
use Rattle.mk_lines.specs.Pieces.{Replacement}
use Rattle.mk_lines.specs.Words.{words_in}
use Rattle.mk_lines.specs.Spacing.{after_space, each_after_space, spaced_words}
use Rattle.mk_class.specs.declared.assignment.Flavor.{Flavor}
use Rattle.mk_class.specs.OperatorTexts.{operator_text}
use Rattle.mk_tree.specs.Documents.{text_of, context_of}
use Rattle.mk_tree.specs.NewLineEnds.{missing_line_end}
use Rattle.mk_edit_language.specs.Edits.{NewLine, NewAssign, NewRule, Edit, AddLine, AddRecipe}
use Rattle.mk_edit_language.specs.Stretches.{Stretch}
use Rattle.mk_edit_language.specs.declared.edit.RuleSeparator.{RuleSeparator}
use Rattle.mk_edit_language.specs.declared.edit.RuleSeparator.TheVariants.{Single, Double}

-- ---- the text of a new line, without its line end

-- an assignment: its name, a space, its operator, and, if its value is not empty, a space and the
-- value
abbrev pub assign_text : (name : List ℕ) → Flavor → (value : List ℕ) → List ℕ
assign_text n f v = n ++ (32 ∷ (operator_text f ++ after_space v))

-- a separator
abbrev pub rule_separator_text : RuleSeparator → List ℕ
rule_separator_text Single = 58 ∷ []
rule_separator_text Double = 58 ∷ 58 ∷ []

-- a rule: its targets with one space between them, its separator, and a space before each
-- prerequisite
abbrev pub rule_text : (targets : List ℕ) → RuleSeparator → (prereqs : List ℕ) → List ℕ
rule_text ts c ws = spaced_words (words_in ts) ++ (rule_separator_text c ++ each_after_space (words_in ws))

-- a line that goes to a place
abbrev line_text : NewLine → List ℕ
line_text (NewAssign n f v) = assign_text n f v
line_text (NewRule ts c ws) = rule_text ts c ws

-- the new line of an edit, if this recipe prefix is in force
abbrev pub new_text : (prefix : ℕ) → Edit → List ℕ
new_text p (AddLine place l) = line_text l
new_text p (AddRecipe nth t place c) = p ∷ c
new_text p e = []

-- ---- the span of a new line

-- the line end of the file
abbrev pub new_line_end : (text : List ℕ) → List ℕ
new_line_end t = line_end_bytes (file_line_end t)

-- the span of a new line: an empty range at its place; the new bytes are the line end that the last
-- line lacks, if it lacks one, and then the new line with the file's line end
abbrev pub new_line_span : (text : List ℕ) → Edit → Stretch → List Replacement
new_line_span t e s =
    let at = length (text_of s.above) in
    record {
      start = at;
      end = at;
      new = missing_line_end (file_line_end t) s.above s.below
          ++ (new_text (context_of s.above).prefix e ++ new_line_end t);
    } ∷ []
