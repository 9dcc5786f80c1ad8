-- Worked rows: the definitions of lines, cells, units and words, computed on texts whose answers are known.
use Rattle.std.proofs.Common.{◌≡◌, refl, [], ◌∷◌, map, true, false}
use Rattle.std.specs.Prelude.{codes}
use Rattle.mk_lines.specs.PhysicalLines.{physical_lines, line_end, without_line_end, file_line_end}
use Rattle.mk_lines.specs.LogicalLines.{logical_lines, is_open, ends_line}
use Rattle.mk_lines.specs.Cells.{joined_byte, raw_bytes, raw_text, joined_text, line_cells}
use Rattle.mk_lines.specs.CellFaults.{has_bad_fold, has_stray}
use Rattle.mk_lines.specs.Units.{units, is_closed}
use Rattle.mk_lines.specs.FirstUnit.{first_unit, leaves_open}
use Rattle.mk_lines.specs.Words.{words}
use Rattle.mk_lines.specs.Ranges.{line_ranges, unit_ranges, word_ranges, raw_offset, raw_range}
use Rattle.mk_lines.specs.declared.ends.End.TheVariants.{None, Lf, CrLf}

-- ---- lines

no_lines : line_ranges [] ≡ []
no_lines = refl

continued_line : line_ranges (codes "A \\\nB\nC") ≡ record { start = 0; end = 6 } ∷ record { start = 6; end = 7 } ∷ []
continued_line = refl

physical_of_continued : physical_lines (codes "A \\\nB\nC") ≡ codes "A \\\n" ∷ codes "B\n" ∷ codes "C" ∷ []
physical_of_continued = refl

even_run : logical_lines (codes "A\\\\\nB\n") ≡ codes "A\\\\\n" ∷ codes "B\n" ∷ []
even_run = refl

odd_run_of_three : logical_lines (codes "# a\\\\\\\nX = 1\n") ≡ codes "# a\\\\\\\nX = 1\n" ∷ []
odd_run_of_three = refl

recipe_continued : logical_lines (codes "a:\n\t\\\n\tb\n") ≡ codes "a:\n" ∷ codes "\t\\\n\tb\n" ∷ []
recipe_continued = refl

-- lines are grouped before anything is read in them
endef_continued : logical_lines (codes "define D\nx \\\nendef\nendef\n") ≡ codes "define D\n" ∷ codes "x \\\nendef\n" ∷ codes "endef\n" ∷ []
endef_continued = refl

-- a carriage return directly before the line feed belongs to the line end; a carriage return before that one does not
continued_by_crlf : logical_lines (codes "a\\\r\nb\n") ≡ codes "a\\\r\nb\n" ∷ []
continued_by_crlf = refl

second_carriage_return : logical_lines (codes "a\\\r\r\nb\n") ≡ codes "a\\\r\r\n" ∷ codes "b\n" ∷ []
second_carriage_return = refl

-- ---- line ends

no_line_end : line_end (codes "a\r") ≡ None
no_line_end = refl

lf_line_end : line_end (codes "a\n") ≡ Lf
lf_line_end = refl

crlf_line_end : line_end (codes "a\r\r\n") ≡ CrLf
crlf_line_end = refl

text_before_crlf : without_line_end (codes "a\r\r\n") ≡ codes "a\r"
text_before_crlf = refl

open_by_backslash : is_open (codes "x\\\n") ≡ true
open_by_backslash = refl

not_open_by_two : is_open (codes "x\\\\\n") ≡ false
not_open_by_two = refl

open_by_carriage_return : is_open (codes "x\r") ≡ true
open_by_carriage_return = refl

not_open_by_crlf : is_open (codes "x\r\n") ≡ false
not_open_by_crlf = refl

not_open_bare : is_open (codes "x") ≡ false
not_open_bare = refl

not_open_empty : is_open [] ≡ false
not_open_empty = refl

open_bare_backslash : is_open (codes "x\\") ≡ true
open_bare_backslash = refl

-- a closed value in an open line: the dollar takes the backslash, and the line end sees it all the same
open_after_dollar : is_open (codes "X = a$\\\n") ≡ true
open_after_dollar = refl

-- the line end of new lines is that of the first physical line, even if that line is continued
file_end_crlf : file_line_end (codes "A=\\\r\n1\nB=2\n") ≡ CrLf
file_end_crlf = refl

file_end_lf : file_line_end (codes "A=1\nB=2\r\n") ≡ Lf
file_end_lf = refl

file_end_bare : file_line_end (codes "A=1") ≡ Lf
file_end_bare = refl

file_end_empty : file_line_end [] ≡ Lf
file_end_empty = refl

-- whether a text ends a line, so that a text put after it begins a new one
ends_by_line_feed : ends_line (codes "a \\\nb\n") ≡ true
ends_by_line_feed = refl

ends_not_continued : ends_line (codes "a \\\n") ≡ false
ends_not_continued = refl

ends_not_bare : ends_line (codes "a") ≡ false
ends_not_bare = refl

-- ---- cells

fold_joined : joined_text (line_cells (codes "F = a \\\n    b\n")) ≡ codes "F = a b"
fold_joined = refl

fold_raws : map raw_bytes (line_cells (codes "F = a \\\n    b\n")) ≡ codes "F" ∷ codes " " ∷ codes "=" ∷ codes " " ∷ codes "a" ∷ codes " \\\n    " ∷ codes "b" ∷ []
fold_raws = refl

fold_range : raw_range (line_cells (codes "F = a \\\n    b\n")) 5 6 ≡ record { start = 5; end = 12 }
fold_range = refl

range_over_fold : raw_range (line_cells (codes "F = a \\\n    b\n")) 4 7 ≡ record { start = 4; end = 13 }
range_over_fold = refl

-- folds that share blanks are one run, and one space
folds_in_a_row : joined_text (line_cells (codes "X = a \\\n \\\n b\n")) ≡ codes "X = a b"
folds_in_a_row = refl

folds_in_a_row_raws : map raw_bytes (line_cells (codes "a \\\n \\\n b\n")) ≡ codes "a" ∷ codes " \\\n \\\n " ∷ codes "b" ∷ []
folds_in_a_row_raws = refl

fold_by_crlf : map raw_bytes (line_cells (codes "X = \\\r\nb")) ≡ codes "X" ∷ codes " " ∷ codes "=" ∷ codes " \\\r\n" ∷ codes "b" ∷ []
fold_by_crlf = refl

-- at the end of the text no line is continued, and the backslash stays
no_fold_at_end : joined_text (line_cells (codes "X = \\\n")) ≡ codes "X = \\"
no_fold_at_end = refl

tab_in_fold : joined_text (line_cells (codes "\t\\\nX = 1\n")) ≡ codes " X = 1"
tab_in_fold = refl

fold_before_tab : joined_text (line_cells (codes "\\\n\tX = 1")) ≡ codes " X = 1"
fold_before_tab = refl

inline_recipe_raw : raw_text (line_cells (codes "a: ; \\\n c\n")) ≡ codes "a: ; \\\n c"
inline_recipe_raw = refl

fold_before_comment : joined_text (line_cells (codes "X = a \\\n # c\n")) ≡ codes "X = a # c"
fold_before_comment = refl

-- a fold at the end of a line stays a space
fold_at_end : joined_text (line_cells (codes "X = a \\\n\n")) ≡ codes "X = a "
fold_at_end = refl

-- a value that is not there has its offset after the whole fold
offset_after_fold : raw_offset (line_cells (codes "X = \\\n # c\n")) 4 ≡ 7
offset_after_fold = refl

-- ---- bad folds and stray bytes

bad_fold : has_bad_fold (line_cells (codes "a\\\\\\\nb")) ≡ true
bad_fold = refl

-- the run begins with its blanks
bad_fold_before_blank : has_bad_fold (line_cells (codes "X = a\\\\ \\\n b\n")) ≡ true
bad_fold_before_blank = refl

good_fold : has_bad_fold (line_cells (codes "X = a \\\n \\\n b\n")) ≡ false
good_fold = refl

stray_nul : has_stray (line_cells (codes "# a\0\n")) ≡ true
stray_nul = refl

stray_carriage_return : has_stray (line_cells (codes "\r\r\n")) ≡ true
stray_carriage_return = refl

stray_before_backslash : has_stray (line_cells (codes "a\r\\\n b\n")) ≡ true
stray_before_backslash = refl

no_stray_in_line_ends : has_stray (line_cells (codes "a\\\r\n b\r\n")) ≡ false
no_stray_in_line_ends = refl

-- ---- units

units_of_all_kinds : units (λ b. b) (codes "$(a(b))${c)}$$x\\#") ≡ codes "$(a(b))" ∷ codes "${c)}" ∷ codes "$$" ∷ codes "x" ∷ codes "\\#" ∷ []
units_of_all_kinds = refl

closed_units : is_closed (λ b. b) (codes "$(a(b))${c)}$$x\\#") ≡ true
closed_units = refl

unit_ranges_of_all_kinds :
    unit_ranges (codes "$(a(b))$$x") ≡ record { start = 0; end = 7 } ∷ record { start = 7; end = 9 } ∷ record { start = 9; end = 10 } ∷ []
unit_ranges_of_all_kinds = refl

backslash_leaves_dollar : units (λ b. b) (codes "\\$") ≡ codes "\\" ∷ codes "$" ∷ []
backslash_leaves_dollar = refl

lone_dollar_is_open : is_closed (λ b. b) (codes "\\$") ≡ false
lone_dollar_is_open = refl

backslash_before_dollar_is_closed : is_closed (λ b. b) (codes "\\$x") ≡ true
backslash_before_dollar_is_closed = refl

lone_backslash_is_open : is_closed (λ b. b) (codes "a\\") ≡ false
lone_backslash_is_open = refl

dollar_takes_backslash : units (λ b. b) (codes "a$\\") ≡ codes "a" ∷ codes "$\\" ∷ []
dollar_takes_backslash = refl

dollar_takes_backslash_is_closed : is_closed (λ b. b) (codes "a$\\") ≡ true
dollar_takes_backslash_is_closed = refl

dollar_takes_hash : units (λ b. b) (codes "a$# b") ≡ codes "a" ∷ codes "$#" ∷ codes " " ∷ codes "b" ∷ []
dollar_takes_hash = refl

dollar_takes_blank : units (λ b. b) (codes "a$ # c") ≡ codes "a" ∷ codes "$ " ∷ codes "#" ∷ codes " " ∷ codes "c" ∷ []
dollar_takes_blank = refl

backslash_takes_blank : units (λ b. b) (codes "a\\  b") ≡ codes "a" ∷ codes "\\ " ∷ codes " " ∷ codes "b" ∷ []
backslash_takes_blank = refl

two_backslashes : units (λ b. b) (codes "a\\\\ b") ≡ codes "a" ∷ codes "\\\\" ∷ codes " " ∷ codes "b" ∷ []
two_backslashes = refl

unclosed_reference : units (λ b. b) (codes "$(foo ${)}") ≡ codes "$(foo ${)" ∷ codes "}" ∷ []
unclosed_reference = refl

unclosed_to_the_end : units (λ b. b) (codes "a$(b {c} ") ≡ codes "a" ∷ codes "$(b {c} " ∷ []
unclosed_to_the_end = refl

-- a dollar before a fold takes all of it
dollar_takes_fold : map raw_text (units joined_byte (line_cells (codes "a$\\\n b\n"))) ≡ codes "a" ∷ codes "$\\\n " ∷ codes "b" ∷ []
dollar_takes_fold = refl

-- ---- the unit at the front of a text, and what leaves a text open

first_reference : first_unit (λ b. b) (codes "$(a(b)){") ≡ codes "$(a(b))"
first_reference = refl

first_braces : first_unit (λ b. b) (codes "${a(b}}") ≡ codes "${a(b}"
first_braces = refl

first_unclosed : first_unit (λ b. b) (codes "$(a(b)") ≡ codes "$(a(b)"
first_unclosed = refl

first_backslash : first_unit (λ b. b) (codes "\\$") ≡ codes "\\"
first_backslash = refl

open_in_the_middle : leaves_open (λ b. b) (codes "a" ∷ codes "\\" ∷ codes "$x" ∷ []) ≡ false
open_in_the_middle = refl

open_at_the_end : leaves_open (λ b. b) (codes "a" ∷ codes "\\" ∷ []) ≡ true
open_at_the_end = refl

open_reference : leaves_open (λ b. b) (codes "a" ∷ codes "$(b {c} " ∷ []) ≡ true
open_reference = refl

-- ---- words

words_around_reference : words (λ b. b) (codes "a$(b c) d") ≡ codes "a$(b c)" ∷ codes "d" ∷ []
words_around_reference = refl

word_ranges_around_reference : word_ranges (codes "a$(b c) d") ≡ record { start = 0; end = 7 } ∷ record { start = 8; end = 9 } ∷ []
word_ranges_around_reference = refl

-- commas in a reference are nothing to words
words_of_subst : words (λ b. b) (codes "$(subst x y,z,w) v") ≡ codes "$(subst x y,z,w)" ∷ codes "v" ∷ []
words_of_subst = refl

-- an escaped blank is in the word
word_with_escaped_blank : words (λ b. b) (codes "a\\ b: X") ≡ codes "a\\ b:" ∷ codes "X" ∷ []
word_with_escaped_blank = refl

words_by_tabs : words (λ b. b) (codes " b\tc ") ≡ codes "b" ∷ codes "c" ∷ []
words_by_tabs = refl

-- a fold between words is a blank; a fold in a reference is a part of the reference
words_over_fold : map raw_text (words joined_byte (line_cells (codes "a: $(a \\\n b) \\\n c\n"))) ≡ codes "a:" ∷ codes "$(a \\\n b)" ∷ codes "c" ∷ []
words_over_fold = refl
