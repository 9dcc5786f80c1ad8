-- The text of a diff.
-- Told in docs/EDITS.md, "Running a script".
use Rattle.std.specs.Prelude.{ℕ, ◌+◌, ◌==◌, if◌then◌else◌, List, [], ◌∷◌, ◌++◌, length, codes, decimal}
use Rattle.mk_lines.specs.PhysicalLines.{line_end}
use Rattle.mk_lines.specs.declared.ends.End.{End}
use Rattle.mk_lines.specs.declared.ends.End.TheVariants.{None, Lf, CrLf}
use Rattle.mk_diff.specs.NameTexts.{name_text}
use Rattle.mk_diff.specs.Hunks.{Change, Hunk, old_lines, new_lines}

-- what is said of a line that ends in this way: of the last line, that it has no line feed
abbrev end_text : End → List ℕ
end_text None = codes "\n\\ No newline at end of file\n"
end_text Lf = []
end_text CrLf = []

-- a line behind its sign
abbrev pub signed_line : (sign : ℕ) → List ℕ → List ℕ
signed_line sign l = sign ∷ (l ++ end_text (line_end l))

-- lines, each behind the sign
abbrev pub signed_lines : (sign : ℕ) → List (List ℕ) → List ℕ
signed_lines sign [] = []
signed_lines sign (l ∷ ls) = signed_line sign l ++ signed_lines sign ls

-- the numbers of so many lines, above which there are `start` lines: the number of the first, from
-- 1, and how many they are, unless it is one. Of no lines it is the number of the line above.
abbrev pub range_text : (start count : ℕ) → List ℕ
range_text start count =
    if count == 0 then decimal start ++ codes ",0" else
    if count == 1 then decimal (start + 1) else
    decimal (start + 1) ++ (codes "," ++ decimal count)

-- the changes of a hunk: kept lines behind a space, removed ones behind `-`, added ones behind `+`
abbrev pub changes_text : List Change → List ℕ
changes_text [] = []
changes_text (c ∷ cs) =
    signed_lines 32 c.above ++ (signed_lines 45 c.removed ++ (signed_lines 43 c.added
    ++ changes_text cs))

-- the first line of a hunk: its numbers in the old text and in the new one
abbrev pub header_text : (old_start old_count new_start new_count : ℕ) → List ℕ
header_text old_start old_count new_start new_count =
    codes "@@ -" ++ (range_text old_start old_count ++ (codes " +"
    ++ (range_text new_start new_count ++ codes " @@\n")))

-- a hunk: its first line, its changes, and the lines below them
abbrev pub hunk_text : Hunk → List ℕ
hunk_text h =
    header_text h.old_start (length (old_lines h)) h.new_start (length (new_lines h))
    ++ (changes_text h.changes ++ signed_lines 32 h.below)

-- the hunks
abbrev pub hunk_texts : List Hunk → List ℕ
hunk_texts [] = []
hunk_texts (h ∷ hs) = hunk_text h ++ hunk_texts hs

-- the two lines of names
abbrev pub names_text : (name : List ℕ) → List ℕ
names_text name =
    codes "--- " ++ (name_text (codes "a/") name ++ (codes "\n+++ " ++ (name_text (codes "b/") name
    ++ codes "\n")))

-- the diff of a file of this name: nothing where there are no hunks
abbrev pub diff_text : (name : List ℕ) → List Hunk → List ℕ
diff_text name [] = []
diff_text name (h ∷ hs) = names_text name ++ hunk_texts (h ∷ hs)
