-- Texts that are a command: those of its fields, where the text of a block stands in the place of a field over several lines.
use Rattle.std.proofs.Common.{◌≡◌, ℕ, List, [], ◌∷◌}
use Rattle.std.specs.Prelude.{Some}
use Rattle.mk_edit_language.specs.Edits.{Edit}
use Rattle.mk_edit_language.specs.LineRuns.{block_lines}
use Rattle.mk_history.specs.Machine.{Command}
use Rattle.mk_script.specs.Numbers.{number}
use Rattle.mk_script.specs.CommandTable.{Content, Text, Number, Block, command_fields}

abbrev HasText : (text : List ℕ) → Content → Type 0
HasText text (Text t) = text ≡ t
HasText text (Number n) = number text ≡ Some n
HasText text (Block lines) = block_lines text ≡ lines

-- texts have these contents, each in its place
abbrev pub HaveTexts : (texts : List (List ℕ)) → List Content → Type 0
HaveTexts [] [] = Unit {0}
HaveTexts [] (c ∷ contents) = ⊥
HaveTexts (t ∷ texts) [] = ⊥
HaveTexts (t ∷ texts) (c ∷ contents) = HasText t c × HaveTexts texts contents

-- some texts are this command
abbrev pub AreCommand : (texts : List (List ℕ)) → Command Edit → Type 0
AreCommand texts command = HaveTexts texts (command_fields command)
