-- The lines of an input, command by command: each command has the lines of its blocks below its own line.
-- Told in docs/PROTOCOL.md, "Blocks".
use Rattle.std.specs.Prelude.{◌≡◌, ◌≢◌, ℕ, Bool, ◌&&◌, nat_lt, if◌then◌else◌, List, [], ◌∷◌, ◌++◌, length, map, Option, Some, None, ⊤}
use Rattle.std.specs.List.{AllByRecursion}
use Rattle.std.specs.Str.{bytes_eq}
use Rattle.bstr.specs.Text.{without_terminator}
use Rattle.mk_lines.specs.Lists.{concat}
use Rattle.mk_lines.specs.PhysicalLines.{physical_lines}
use Rattle.mk_script.specs.BlockWords.{block_words}
use Rattle.mk_repl.specs.InputLines.{before_line_feed, IsShort}
use Rattle.mk_script.specs.SeenFields.{bytes}
use Rattle.mk_repl.specs.declared.command_lines.CommandLines.{CommandLines}
use Rattle.mk_repl.specs.declared.command_lines.Unread.{Unread}
use Rattle.mk_repl.specs.declared.command_lines.Unread.TheVariants.{TooLong, NoMemory}

-- ---- which lines are below a command

-- whether a line is one that is read
abbrev is_short : List ℕ → Bool
is_short line = nat_lt (length (before_line_feed line)) 65536

-- the words that end the blocks below a line; a line that is too long has no blocks
unfoldable pub words_below : List ℕ → List (List ℕ)
words_below line = if is_short line then block_words (without_terminator line) else []

-- whether a line ends a block with this word
abbrev ends_block : (word line : List ℕ) → Bool
ends_block word line = is_short line && bytes_eq (without_terminator line) word

-- the words that are waited for behind a line
abbrev pub waited_behind : (line : List ℕ) → (words : List (List ℕ)) → List (List ℕ)
waited_behind line [] = []
waited_behind line (word ∷ words) = if ends_block word line then words else word ∷ words

-- a line, before other lines of its command and before other commands
abbrev put_below : List ℕ → List (List ℕ) × List (List (List ℕ)) → List (List ℕ) × List (List (List ℕ))
put_below line p = (line ∷ p.0, p.1)

-- a line that begins a command
abbrev put_command : List ℕ → List (List ℕ) × List (List (List ℕ)) → List (List ℕ) × List (List (List ℕ))
put_command line p = ([], (line ∷ p.0) ∷ p.1)

-- the lines up to these words, one word after the other, and the commands behind them
abbrev pub split_lines : (lines : List (List ℕ)) → (words : List (List ℕ)) → List (List ℕ) × List (List (List ℕ))
split_lines [] words = ([], [])
split_lines (line ∷ lines) [] = put_command line (split_lines lines (words_below line))
split_lines (line ∷ lines) (word ∷ words) =
    put_below line (split_lines lines (waited_behind line (word ∷ words)))

-- the lines of a text, command by command; where the text ends in a block, the last has the lines so far
abbrev pub commands_in : List ℕ → List (List (List ℕ))
commands_in text = (split_lines (physical_lines text) []).1

-- ---- what is read of them

-- Known bytes lose the lines up to these words, or all lines.
abbrev pub LosesBelow : (before after : Option (List ℕ)) → (words lines : List (List ℕ)) → Type 0
LosesBelow None after words lines = ⊤
LosesBelow (Some bytes) None words lines = ⊥
LosesBelow (Some bytes) (Some rest) words lines =
    split_lines (physical_lines bytes) words ≡ (lines, commands_in rest)

-- This is the first of the known bytes' commands, and they lose it.
abbrev pub LosesCommand : (before after : Option (List ℕ)) → (lines : List (List ℕ)) → Type 0
LosesCommand None after lines = ⊤
LosesCommand (Some bytes) None lines = ⊥
LosesCommand (Some bytes) (Some rest) lines = commands_in bytes ≡ lines ∷ commands_in rest

-- the first of some lines has blocks
abbrev pub HasBlocks : List (List ℕ) → Type 0
HasBlocks [] = ⊥
HasBlocks (line ∷ below) = words_below line ≢ []

-- why the lines of a command are not read: not all are short; or it has blocks, and memory ran out
abbrev pub IsUnread : Unread → (lines : List (List ℕ)) → Type 0
IsUnread TooLong lines = AllByRecursion IsShort lines → ⊥
IsUnread NoMemory lines = HasBlocks lines

-- These lines are together in a text; or they are not, for this reason.
abbrev pub AreRead : (lines : List (List ℕ)) → (text : List ℕ) → (unread : Option Unread) → Type 0
AreRead lines text None = AllByRecursion IsShort lines × (text ≡ concat lines)
AreRead lines text (Some why) = IsUnread why lines

-- the lines of a command that has blocks came, and then these
abbrev pub Takes : {A : Type 0} → (lines : List (List ℕ)) → (old new : CommandLines A) → Type 0
Takes lines old new =
    (above : List (List ℕ)) → HasBlocks above → AreRead above old.text.items old.unread
    → AreRead (above ++ lines) new.text.items new.unread

-- the words that a command waits for
abbrev pub waited_for : {A : Type 0} → CommandLines A → List (List ℕ)
waited_for command = map bytes command.words.now
