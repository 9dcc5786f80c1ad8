-- Laws of the lines of a text and of a rule, each the contract of a public function.
-- Told in docs/PROOFS.md, "Reading a makefile".
use Rattle.std.specs.Prelude.{◌≡◌, ℕ, not, List}
use Rattle.mk_class.specs.ClassedLines.{ClassedLine, classed_lines}
use Rattle.mk_lines.specs.Lists.{leading}
use Rattle.mk_tree.specs.Documents.{text_of}
use Rattle.mk_tree.specs.RecipeLines.{rule_lines, ends_rule}

-- the lines of a text, joined, are the text
abbrev pub LinesAreTheText : Type 0
LinesAreTheText = (text : List ℕ) → text_of (classed_lines text) ≡ text

-- the lines of a header's rule are those before the next line that begins a rule or sets the flag
-- to anything other than Rule
abbrev pub RulesEndByFlag : Type 0
RulesEndByFlag =
    (after : List ClassedLine) → rule_lines after ≡ leading (λ l. not (ends_rule l.class)) after
