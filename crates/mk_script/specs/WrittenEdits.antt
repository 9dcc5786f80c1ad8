-- An edit as the lines of a script that say it.
-- Told in docs/EDITS.md, "The script".
use Rattle.std.specs.Prelude.{ℕ, ◌+◌, Bool, false, ◌==◌, ◌||◌, not, if◌then◌else◌, zero, suc, true, List, [], ◌∷◌, ◌++◌, length, map, is_some, decimal, codes}
use Rattle.std.specs.List.{list_any}
use Rattle.std.specs.Str.{bytes_eq}
use Rattle.mk_lines.specs.Bytes.{is_blank_byte}
use Rattle.mk_lines.specs.Lists.{concat}
use Rattle.mk_lines.specs.Spacing.{spaced_words}
use Rattle.mk_edit_language.specs.Edits.{OfRun, OfRuleRun, LineChange, InsertWord, ChangeEach, Edit, ExchangeLines, EachLine}
use Rattle.mk_history.specs.Machine.{Apply}
use Rattle.mk_script.specs.CommandTable.{Content, Text, Number, Block, command_fields}
use Rattle.mk_script.specs.Fields.{Bare, quoted}
use Rattle.mk_script.specs.Blocks.{block_text, end_word}
use Rattle.mk_script.specs.Scripts.{Alone, IsScript}

-- ---- a field

-- whether a byte has to stand between quotes: a blank, a carriage return or a quote
abbrev pub is_quoted_byte : ℕ → Bool
is_quoted_byte b = is_blank_byte b || (b == 13 || b == 34)

-- whether a field has to stand between quotes: a byte of it has to, or it is `<<` and a word, which would
-- be the mark of a block
abbrev pub needs_quotes : (field : List ℕ) → Bool
needs_quotes field = list_any is_quoted_byte field || is_some (end_word (Bare field))

-- whether a field can stand as it is: it is not empty, and does not have to stand between quotes
abbrev pub is_plain : (field : List ℕ) → Bool
is_plain [] = false
is_plain field = not (needs_quotes field)

-- a field as it stands in the line: as it is if it can, else between quotes
abbrev pub written : (field : List ℕ) → List ℕ
written field = if is_plain field then field else quoted field

-- ---- the word of a block

-- the words that may end a block: E, E1, E2 and so on
abbrev pub end_word_of : (number : ℕ) → List ℕ
end_word_of n = codes "E" ++ (if n == 0 then [] else decimal n)

-- whether one of some lines is this word
abbrev pub has_line : (lines : List (List ℕ)) → (word : List ℕ) → Bool
has_line lines word = list_any (λ line. bytes_eq line word) lines

-- the number of the first word, from this one on, that none of some lines is; so many are tried
abbrev pub free_number_from : (number tries : ℕ) → (lines : List (List ℕ)) → ℕ
free_number_from n zero lines = n
free_number_from n (suc k) lines =
    if has_line lines (end_word_of n) then free_number_from (n + 1) k lines else n

-- the first word that none of some lines is: with one word more than there are lines, there is one
abbrev pub free_word : (lines : List (List ℕ)) → List ℕ
free_word lines = end_word_of (free_number_from 0 (length lines) lines)

-- ---- the lines of an edit

-- whether a text has a line feed; and a carriage return
abbrev pub has_line_feed : List ℕ → Bool
has_line_feed t = list_any (λ b. b == 10) t

abbrev pub has_return : List ℕ → Bool
has_return t = list_any (λ b. b == 13) t

-- whether a block stands below its line: it has several lines
abbrev pub is_below : (lines : List (List ℕ)) → Bool
is_below lines = has_line_feed (block_text lines)

-- the text of a field
abbrev pub content_text : Content → List ℕ
content_text (Text t) = t
content_text (Number n) = decimal n
content_text (Block lines) = block_text lines

-- what stands in the line for a field: for a block that stands below it, `<<` and its word
abbrev pub field_in_line : Content → List ℕ
field_in_line (Block lines) =
    if is_below lines then codes "<<" ++ free_word lines else written (block_text lines)
field_in_line c = written (content_text c)

-- what stands below the line: the lines of such a block, and its word
abbrev pub lines_below : Content → List (List ℕ)
lines_below (Block lines) = if is_below lines then lines ++ free_word lines ∷ [] else []
lines_below c = []

-- the line of an edit's command, with one space between its fields; and the lines below it
abbrev pub command_line : Edit → List ℕ
command_line e = spaced_words (map field_in_line (command_fields (Apply e)))

abbrev pub lines_of_blocks : Edit → List (List ℕ)
lines_of_blocks e = concat (map lines_below (command_fields (Apply e)))

-- some lines, each with its line feed
abbrev pub each_ended : (lines : List (List ℕ)) → List ℕ
each_ended [] = []
each_ended (line ∷ lines) = line ++ 10 ∷ each_ended lines

-- an edit as lines of a script
abbrev pub script_of : Edit → List ℕ
script_of e = each_ended (command_line e ∷ lines_of_blocks e)

-- ---- what is not said

-- whether a change puts a word beside another one
abbrev pub inserts_word : LineChange → Bool
inserts_word (InsertWord side word new) = true
inserts_word change = false

-- whether no command is this edit: it is to put in lines and has none, or to put a word beside another one
-- in each value
abbrev pub has_no_command : Edit → Bool
has_no_command (ExchangeLines (OfRun nth old) new) = false
has_no_command (ExchangeLines (OfRuleRun nth target) new) = false
has_no_command (ExchangeLines site []) = true
has_no_command (EachLine (ChangeEach name change)) = inserts_word change
has_no_command e = false

-- whether a script cannot have its lines so: that of the command has a line feed, or a line of a block a
-- carriage return
abbrev pub is_lost : Edit → Bool
is_lost e = has_line_feed (command_line e) || list_any has_return (lines_of_blocks e)

-- ---- what a script with these lines says

-- a script that is this edit, and nothing else
abbrev pub SaysOnly : (script : List ℕ) → Edit → Type 0
SaysOnly script e = IsScript script (Alone (record { line = 1; command = Apply e }) ∷ [])
