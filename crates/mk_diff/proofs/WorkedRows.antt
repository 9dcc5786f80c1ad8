-- The definitions, computed: GNU diff has written each text here, and `patch` leads from one list of lines to the other.
use Rattle.std.proofs.Common.{◌≡◌, ℕ, List, [], ◌∷◌, ◌++◌, codes, refl, map, Some}
use Rattle.std.specs.Fmt.{digits}
use Rattle.mk_diff.specs.Hunks.{Hunk, applied, turned}
use Rattle.mk_diff.specs.HunkTexts.{diff_text}
use Rattle.mk_diff.specs.NameTexts.{name_text, patch_name}
use Rattle.mk_diff.specs.PaintedDiffs.{painted_diff}

-- one line alone
abbrev hunks_1 : List Hunk
hunks_1 = record { old_start = 0; new_start = 0; changes = record { above = []; removed = codes "x\n" ∷ []; added = codes "y\n" ∷ [] } ∷ []; below = [] } ∷ []

text_1 : diff_text (codes "F") hunks_1 ≡ codes "--- a/F\n+++ b/F\n@@ -1 +1 @@\n-x\n+y\n"
unfolding digits
text_1 = refl

applied_1 : applied 0 hunks_1 (codes "x\n" ∷ []) ≡ Some (codes "y\n" ∷ [])
applied_1 = refl

turned_1 : applied 0 (map turned hunks_1) (codes "y\n" ∷ []) ≡ Some (codes "x\n" ∷ [])
turned_1 = refl

-- lines from nothing
abbrev hunks_2 : List Hunk
hunks_2 = record { old_start = 0; new_start = 0; changes = record { above = []; removed = []; added = codes "a\n" ∷ codes "b\n" ∷ [] } ∷ []; below = [] } ∷ []

text_2 : diff_text (codes "F") hunks_2 ≡ codes "--- a/F\n+++ b/F\n@@ -0,0 +1,2 @@\n+a\n+b\n"
unfolding digits
text_2 = refl

applied_2 : applied 0 hunks_2 ([]) ≡ Some (codes "a\n" ∷ codes "b\n" ∷ [])
applied_2 = refl

turned_2 : applied 0 (map turned hunks_2) (codes "a\n" ∷ codes "b\n" ∷ []) ≡ Some ([])
turned_2 = refl

-- lines to nothing
abbrev hunks_3 : List Hunk
hunks_3 = record { old_start = 0; new_start = 0; changes = record { above = []; removed = codes "a\n" ∷ []; added = [] } ∷ []; below = [] } ∷ []

text_3 : diff_text (codes "F") hunks_3 ≡ codes "--- a/F\n+++ b/F\n@@ -1 +0,0 @@\n-a\n"
unfolding digits
text_3 = refl

applied_3 : applied 0 hunks_3 (codes "a\n" ∷ []) ≡ Some ([])
applied_3 = refl

turned_3 : applied 0 (map turned hunks_3) ([]) ≡ Some (codes "a\n" ∷ [])
turned_3 = refl

-- a last line without a line feed
abbrev hunks_4 : List Hunk
hunks_4 = record { old_start = 0; new_start = 0; changes = record { above = codes "a\n" ∷ []; removed = codes "b" ∷ []; added = codes "c" ∷ [] } ∷ []; below = [] } ∷ []

text_4 : diff_text (codes "F") hunks_4 ≡ codes "--- a/F\n+++ b/F\n@@ -1,2 +1,2 @@\n a\n-b\n\\ No newline at end of file\n+c\n\\ No newline at end of file\n"
unfolding digits
text_4 = refl

applied_4 : applied 0 hunks_4 (codes "a\n" ∷ codes "b" ∷ []) ≡ Some (codes "a\n" ∷ codes "c" ∷ [])
applied_4 = refl

turned_4 : applied 0 (map turned hunks_4) (codes "a\n" ∷ codes "c" ∷ []) ≡ Some (codes "a\n" ∷ codes "b" ∷ [])
turned_4 = refl

-- a kept line without a line feed, and CRLF
abbrev hunks_5 : List Hunk
hunks_5 = record { old_start = 0; new_start = 0; changes = record { above = []; removed = codes "1\r\n" ∷ []; added = codes "one\r\n" ∷ [] } ∷ []; below = codes "2\r\n" ∷ codes "3" ∷ [] } ∷ []

text_5 : diff_text (codes "F") hunks_5 ≡ codes "--- a/F\n+++ b/F\n@@ -1,3 +1,3 @@\n-1\r\n+one\r\n 2\r\n 3\n\\ No newline at end of file\n"
unfolding digits
text_5 = refl

applied_5 : applied 0 hunks_5 (codes "1\r\n" ∷ codes "2\r\n" ∷ codes "3" ∷ []) ≡ Some (codes "one\r\n" ∷ codes "2\r\n" ∷ codes "3" ∷ [])
applied_5 = refl

turned_5 : applied 0 (map turned hunks_5) (codes "one\r\n" ∷ codes "2\r\n" ∷ codes "3" ∷ []) ≡ Some (codes "1\r\n" ∷ codes "2\r\n" ∷ codes "3" ∷ [])
turned_5 = refl

-- two hunks
abbrev hunks_6 : List Hunk
hunks_6 = record { old_start = 0; new_start = 0; changes = record { above = []; removed = codes "a\n" ∷ []; added = codes "A\n" ∷ [] } ∷ []; below = codes "1\n" ∷ codes "2\n" ∷ codes "3\n" ∷ [] } ∷ record { old_start = 5; new_start = 5; changes = record { above = codes "5\n" ∷ codes "6\n" ∷ codes "7\n" ∷ []; removed = codes "b\n" ∷ []; added = codes "B\n" ∷ [] } ∷ []; below = [] } ∷ []

text_6 : diff_text (codes "F") hunks_6 ≡ codes "--- a/F\n+++ b/F\n@@ -1,4 +1,4 @@\n-a\n+A\n 1\n 2\n 3\n@@ -6,4 +6,4 @@\n 5\n 6\n 7\n-b\n+B\n"
unfolding digits
text_6 = refl

applied_6 : applied 0 hunks_6 (codes "a\n" ∷ codes "1\n" ∷ codes "2\n" ∷ codes "3\n" ∷ codes "4\n" ∷ codes "5\n" ∷ codes "6\n" ∷ codes "7\n" ∷ codes "b\n" ∷ []) ≡ Some (codes "A\n" ∷ codes "1\n" ∷ codes "2\n" ∷ codes "3\n" ∷ codes "4\n" ∷ codes "5\n" ∷ codes "6\n" ∷ codes "7\n" ∷ codes "B\n" ∷ [])
applied_6 = refl

turned_6 : applied 0 (map turned hunks_6) (codes "A\n" ∷ codes "1\n" ∷ codes "2\n" ∷ codes "3\n" ∷ codes "4\n" ∷ codes "5\n" ∷ codes "6\n" ∷ codes "7\n" ∷ codes "B\n" ∷ []) ≡ Some (codes "a\n" ∷ codes "1\n" ∷ codes "2\n" ∷ codes "3\n" ∷ codes "4\n" ∷ codes "5\n" ∷ codes "6\n" ∷ codes "7\n" ∷ codes "b\n" ∷ [])
turned_6 = refl

-- two changes of a hunk
abbrev hunks_7 : List Hunk
hunks_7 = record { old_start = 0; new_start = 0; changes = record { above = []; removed = codes "a\n" ∷ []; added = codes "A\n" ∷ [] } ∷ record { above = codes "1\n" ∷ codes "2\n" ∷ codes "3\n" ∷ codes "4\n" ∷ codes "5\n" ∷ codes "6\n" ∷ []; removed = codes "b\n" ∷ []; added = codes "B\n" ∷ [] } ∷ []; below = [] } ∷ []

text_7 : diff_text (codes "F") hunks_7 ≡ codes "--- a/F\n+++ b/F\n@@ -1,8 +1,8 @@\n-a\n+A\n 1\n 2\n 3\n 4\n 5\n 6\n-b\n+B\n"
unfolding digits
text_7 = refl

applied_7 : applied 0 hunks_7 (codes "a\n" ∷ codes "1\n" ∷ codes "2\n" ∷ codes "3\n" ∷ codes "4\n" ∷ codes "5\n" ∷ codes "6\n" ∷ codes "b\n" ∷ []) ≡ Some (codes "A\n" ∷ codes "1\n" ∷ codes "2\n" ∷ codes "3\n" ∷ codes "4\n" ∷ codes "5\n" ∷ codes "6\n" ∷ codes "B\n" ∷ [])
applied_7 = refl

turned_7 : applied 0 (map turned hunks_7) (codes "A\n" ∷ codes "1\n" ∷ codes "2\n" ∷ codes "3\n" ∷ codes "4\n" ∷ codes "5\n" ∷ codes "6\n" ∷ codes "B\n" ∷ []) ≡ Some (codes "a\n" ∷ codes "1\n" ∷ codes "2\n" ∷ codes "3\n" ∷ codes "4\n" ∷ codes "5\n" ∷ codes "6\n" ∷ codes "b\n" ∷ [])
turned_7 = refl

-- ---- names, as `patch` and git read them

space : name_text (codes "a/") (codes "x y") ≡ codes "a/x y\t"
space = refl

space_at_end : name_text (codes "a/") (codes "x y ") ≡ codes "\"a/x y \""
space_at_end = refl

quote : name_text (codes "b/") (codes "x\"y") ≡ codes "\"b/x\\042y\""
quote = refl

tab : name_text (codes "b/") (codes "x\ty z") ≡ codes "\"b/x\\011y z\""
tab = refl

-- ---- names as `patch` takes them: the folder in which it does is `.`, `/`, `..`, `..`, `d/..` and `.`

name_1 : patch_name (codes "./d//m") ≡ codes "d//m"
name_1 = refl

name_2 : patch_name (codes "//x/m") ≡ codes "x/m"
name_2 = refl

name_3 : patch_name (codes "../m") ≡ codes "m"
name_3 = refl

name_4 : patch_name (codes "./.././m") ≡ codes "m"
name_4 = refl

name_5 : patch_name (codes "d/../e/m") ≡ codes "e/m"
name_5 = refl

name_6 : patch_name (codes "a../..b/m") ≡ codes "a../..b/m"
name_6 = refl

-- ---- a diff in colours, as GNU diff paints it

-- a line between the sequences of a terminal
abbrev in_color : (number line : List ℕ) → List ℕ
in_color number line = 27 ∷ (codes "[" ++ (number ++ (codes "m" ++ (line ++ (27 ∷ codes "[0m\n")))))

painted_hunk : painted_diff (codes "--- a/F\n+++ b/F\n@@ -1,2 +1,2 @@\n a\n--- b\n+++ b\n")
    ≡ in_color (codes "1") (codes "--- a/F") ++ (in_color (codes "1") (codes "+++ b/F")
    ++ (in_color (codes "36") (codes "@@ -1,2 +1,2 @@") ++ (codes " a\n"
    ++ (in_color (codes "31") (codes "--- b") ++ in_color (codes "32") (codes "+++ b")))))
painted_hunk = refl
