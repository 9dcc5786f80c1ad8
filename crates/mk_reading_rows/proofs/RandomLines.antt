-- Random texts and what a plain program reads in them. Made by `tests/definitions/line_rows.py 250 1`.
use Rattle.std.proofs.Common.{◌≡◌, refl, ℕ, List, [], ◌∷◌, map, Bool, true, false}
use Rattle.std.specs.Prelude.{codes}
use Rattle.mk_lines.specs.PhysicalLines.{line_end}
use Rattle.mk_lines.specs.LogicalLines.{logical_lines, is_open}
use Rattle.mk_lines.specs.Cells.{raw_bytes, joined_text, line_cells}
use Rattle.mk_lines.specs.CellFaults.{has_bad_fold, has_stray}
use Rattle.mk_lines.specs.Units.{is_closed}
use Rattle.mk_lines.specs.Ranges.{unit_ranges, word_ranges}
use Rattle.mk_lines.specs.declared.split.Span.{Span}
use Rattle.mk_lines.specs.declared.ends.End.{End}
use Rattle.mk_lines.specs.declared.ends.End.TheVariants.{None, Lf, CrLf}

-- A logical line: its bytes; its line end; whether it is open, has a bad fold, has a stray byte, and is closed; its joined
-- text; the raw bytes of each cell; the ranges of units and of words in the joined text.
data SeenLine : Type 0 where
  Seen : (bytes : List ℕ) → End → (facts : List Bool) → (joined : List ℕ) → (raws : List (List ℕ)) → (units words : List Span) → SeenLine

abbrev span : (start end : ℕ) → Span
span start end = record { start = start; end = end }

abbrev seen_line : List ℕ → SeenLine
seen_line l =
    let cs = line_cells l in
    let t = joined_text cs in
    Seen l (line_end l) (is_open l ∷ has_bad_fold cs ∷ has_stray cs ∷ is_closed (λ b. b) t ∷ []) t (map raw_bytes cs) (unit_ranges t) (word_ranges t)

abbrev seen : List ℕ → List SeenLine
seen t = map seen_line (logical_lines t)

row_0 : seen (codes "\\\n\n") ≡ Seen (codes "\\\n\n") Lf (false ∷ false ∷ false ∷ true ∷ []) (codes " ") (codes "\\\n" ∷ []) (span 0 1 ∷ []) [] ∷ []
row_0 = refl

row_1 : seen (codes "(\\\n\t\\{)\\\\$\\\n$(a)\n") ≡ Seen (codes "(\\\n\t\\{)\\\\$\\\n$(a)\n") Lf (false ∷ false ∷ false ∷ true ∷ []) (codes "( \\{)\\\\$ $(a)") (codes "(" ∷ codes "\\\n\t" ∷ codes "\\" ∷ codes "{" ∷ codes ")" ∷ codes "\\" ∷ codes "\\" ∷ codes "$" ∷ codes "\\\n" ∷ codes "$" ∷ codes "(" ∷ codes "a" ∷ codes ")" ∷ []) (span 0 1 ∷ span 1 2 ∷ span 2 4 ∷ span 4 5 ∷ span 5 7 ∷ span 7 9 ∷ span 9 13 ∷ []) (span 0 1 ∷ span 2 13 ∷ []) ∷ []
row_1 = refl

row_2 : seen (codes "\r\n\n \r\n}\n\0\\$(${\r\n") ≡ Seen (codes "\r\n") CrLf (false ∷ false ∷ false ∷ true ∷ []) [] [] [] [] ∷ Seen (codes "\n") Lf (false ∷ false ∷ false ∷ true ∷ []) [] [] [] [] ∷ Seen (codes " \r\n") CrLf (false ∷ false ∷ false ∷ true ∷ []) (codes " ") (codes " " ∷ []) (span 0 1 ∷ []) [] ∷ Seen (codes "}\n") Lf (false ∷ false ∷ false ∷ true ∷ []) (codes "}") (codes "}" ∷ []) (span 0 1 ∷ []) (span 0 1 ∷ []) ∷ Seen (codes "\0\\$(${\r\n") CrLf (false ∷ false ∷ true ∷ false ∷ []) (codes "\0\\$(${") (codes "\0" ∷ codes "\\" ∷ codes "$" ∷ codes "(" ∷ codes "$" ∷ codes "{" ∷ []) (span 0 1 ∷ span 1 2 ∷ span 2 6 ∷ []) (span 0 6 ∷ []) ∷ []
row_2 = refl

row_3 : seen (codes "(#\n\r\\\t$ $\\\n") ≡ Seen (codes "(#\n") Lf (false ∷ false ∷ false ∷ true ∷ []) (codes "(#") (codes "(" ∷ codes "#" ∷ []) (span 0 1 ∷ span 1 2 ∷ []) (span 0 2 ∷ []) ∷ Seen (codes "\r\\\t$ $\\\n") Lf (true ∷ false ∷ true ∷ true ∷ []) (codes "\r\\\t$ $\\") (codes "\r" ∷ codes "\\" ∷ codes "\t" ∷ codes "$" ∷ codes " " ∷ codes "$" ∷ codes "\\" ∷ []) (span 0 1 ∷ span 1 3 ∷ span 3 5 ∷ span 5 7 ∷ []) (span 0 7 ∷ []) ∷ []
row_3 = refl

row_4 : seen (codes "\r ") ≡ Seen (codes "\r ") None (false ∷ false ∷ true ∷ true ∷ []) (codes "\r ") (codes "\r" ∷ codes " " ∷ []) (span 0 1 ∷ span 1 2 ∷ []) (span 0 1 ∷ []) ∷ []
row_4 = refl

row_5 : seen (codes "\n$(a)$\\\0\0$\\\n#") ≡ Seen (codes "\n") Lf (false ∷ false ∷ false ∷ true ∷ []) [] [] [] [] ∷ Seen (codes "$(a)$\\\0\0$\\\n#") None (false ∷ false ∷ true ∷ true ∷ []) (codes "$(a)$\\\0\0$ #") (codes "$" ∷ codes "(" ∷ codes "a" ∷ codes ")" ∷ codes "$" ∷ codes "\\" ∷ codes "\0" ∷ codes "\0" ∷ codes "$" ∷ codes "\\\n" ∷ codes "#" ∷ []) (span 0 4 ∷ span 4 6 ∷ span 6 7 ∷ span 7 8 ∷ span 8 10 ∷ span 10 11 ∷ []) (span 0 11 ∷ []) ∷ []
row_5 = refl

row_6 : seen (codes "{a\\\r\r(") ≡ Seen (codes "{a\\\r\r(") None (false ∷ false ∷ true ∷ true ∷ []) (codes "{a\\\r\r(") (codes "{" ∷ codes "a" ∷ codes "\\" ∷ codes "\r" ∷ codes "\r" ∷ codes "(" ∷ []) (span 0 1 ∷ span 1 2 ∷ span 2 4 ∷ span 4 5 ∷ span 5 6 ∷ []) (span 0 6 ∷ []) ∷ []
row_6 = refl

row_7 : seen (codes "\n#\r \\a ") ≡ Seen (codes "\n") Lf (false ∷ false ∷ false ∷ true ∷ []) [] [] [] [] ∷ Seen (codes "#\r \\a ") None (false ∷ false ∷ true ∷ true ∷ []) (codes "#\r \\a ") (codes "#" ∷ codes "\r" ∷ codes " " ∷ codes "\\" ∷ codes "a" ∷ codes " " ∷ []) (span 0 1 ∷ span 1 2 ∷ span 2 3 ∷ span 3 5 ∷ span 5 6 ∷ []) (span 0 2 ∷ span 3 5 ∷ []) ∷ []
row_7 = refl

row_8 : seen (codes ")\0\\{\\\r\n\\\n{\\\r\n") ≡ Seen (codes ")\0\\{\\\r\n\\\n{\\\r\n") CrLf (true ∷ false ∷ true ∷ false ∷ []) (codes ")\0\\{ {\\") (codes ")" ∷ codes "\0" ∷ codes "\\" ∷ codes "{" ∷ codes "\\\r\n\\\n" ∷ codes "{" ∷ codes "\\" ∷ []) (span 0 1 ∷ span 1 2 ∷ span 2 4 ∷ span 4 5 ∷ span 5 6 ∷ span 6 7 ∷ []) (span 0 4 ∷ span 5 7 ∷ []) ∷ []
row_8 = refl

row_9 : seen (codes " $$\\\n{} \\$(a)({\ra\\") ≡ Seen (codes " $$\\\n{} \\$(a)({\ra\\") None (true ∷ false ∷ true ∷ false ∷ []) (codes " $$ {} \\$(a)({\ra\\") (codes " " ∷ codes "$" ∷ codes "$" ∷ codes "\\\n" ∷ codes "{" ∷ codes "}" ∷ codes " " ∷ codes "\\" ∷ codes "$" ∷ codes "(" ∷ codes "a" ∷ codes ")" ∷ codes "(" ∷ codes "{" ∷ codes "\r" ∷ codes "a" ∷ codes "\\" ∷ []) (span 0 1 ∷ span 1 3 ∷ span 3 4 ∷ span 4 5 ∷ span 5 6 ∷ span 6 7 ∷ span 7 8 ∷ span 8 12 ∷ span 12 13 ∷ span 13 14 ∷ span 14 15 ∷ span 15 16 ∷ span 16 17 ∷ []) (span 1 3 ∷ span 4 6 ∷ span 7 17 ∷ []) ∷ []
row_9 = refl

row_10 : seen (codes " \\\n  \\\n \r\0") ≡ Seen (codes " \\\n  \\\n \r\0") None (false ∷ false ∷ true ∷ true ∷ []) (codes " \r\0") (codes " \\\n  \\\n " ∷ codes "\r" ∷ codes "\0" ∷ []) (span 0 1 ∷ span 1 2 ∷ span 2 3 ∷ []) (span 1 3 ∷ []) ∷ []
row_10 = refl

row_11 : seen (codes "a\r\r\t") ≡ Seen (codes "a\r\r\t") None (false ∷ false ∷ true ∷ true ∷ []) (codes "a\r\r\t") (codes "a" ∷ codes "\r" ∷ codes "\r" ∷ codes "\t" ∷ []) (span 0 1 ∷ span 1 2 ∷ span 2 3 ∷ span 3 4 ∷ []) (span 0 3 ∷ []) ∷ []
row_11 = refl

row_12 : seen (codes " \n$(\r\n}\\\r\n}\n$\\\n(") ≡ Seen (codes " \n") Lf (false ∷ false ∷ false ∷ true ∷ []) (codes " ") (codes " " ∷ []) (span 0 1 ∷ []) [] ∷ Seen (codes "$(\r\n") CrLf (false ∷ false ∷ false ∷ false ∷ []) (codes "$(") (codes "$" ∷ codes "(" ∷ []) (span 0 2 ∷ []) (span 0 2 ∷ []) ∷ Seen (codes "}\\\r\n}\n") Lf (false ∷ false ∷ false ∷ true ∷ []) (codes "} }") (codes "}" ∷ codes "\\\r\n" ∷ codes "}" ∷ []) (span 0 1 ∷ span 1 2 ∷ span 2 3 ∷ []) (span 0 1 ∷ span 2 3 ∷ []) ∷ Seen (codes "$\\\n(") None (false ∷ false ∷ false ∷ true ∷ []) (codes "$ (") (codes "$" ∷ codes "\\\n" ∷ codes "(" ∷ []) (span 0 2 ∷ span 2 3 ∷ []) (span 0 3 ∷ []) ∷ []
row_12 = refl

row_13 : seen (codes "a\t\\\r\n$(a)\n$(a)\n$(a)\\${") ≡ Seen (codes "a\t\\\r\n$(a)\n") Lf (false ∷ false ∷ false ∷ true ∷ []) (codes "a $(a)") (codes "a" ∷ codes "\t\\\r\n" ∷ codes "$" ∷ codes "(" ∷ codes "a" ∷ codes ")" ∷ []) (span 0 1 ∷ span 1 2 ∷ span 2 6 ∷ []) (span 0 1 ∷ span 2 6 ∷ []) ∷ Seen (codes "$(a)\n") Lf (false ∷ false ∷ false ∷ true ∷ []) (codes "$(a)") (codes "$" ∷ codes "(" ∷ codes "a" ∷ codes ")" ∷ []) (span 0 4 ∷ []) (span 0 4 ∷ []) ∷ Seen (codes "$(a)\\${") None (false ∷ false ∷ false ∷ false ∷ []) (codes "$(a)\\${") (codes "$" ∷ codes "(" ∷ codes "a" ∷ codes ")" ∷ codes "\\" ∷ codes "$" ∷ codes "{" ∷ []) (span 0 4 ∷ span 4 5 ∷ span 5 7 ∷ []) (span 0 7 ∷ []) ∷ []
row_13 = refl

row_14 : seen (codes "$(\\\0\0\0\\\n \\\n $\\\n${{ \r\n") ≡ Seen (codes "$(\\\0\0\0\\\n \\\n $\\\n${{ \r\n") CrLf (false ∷ false ∷ true ∷ false ∷ []) (codes "$(\\\0\0\0 $ ${{ ") (codes "$" ∷ codes "(" ∷ codes "\\" ∷ codes "\0" ∷ codes "\0" ∷ codes "\0" ∷ codes "\\\n \\\n " ∷ codes "$" ∷ codes "\\\n" ∷ codes "$" ∷ codes "{" ∷ codes "{" ∷ codes " " ∷ []) (span 0 13 ∷ []) (span 0 13 ∷ []) ∷ []
row_14 = refl

row_15 : seen (codes "\n$\\\n \\\r\n$ $(a)$\\\n\\\r\n ") ≡ Seen (codes "\n") Lf (false ∷ false ∷ false ∷ true ∷ []) [] [] [] [] ∷ Seen (codes "$\\\n \\\r\n$ $(a)$\\\n\\\r\n ") None (false ∷ false ∷ false ∷ true ∷ []) (codes "$ $ $(a)$ ") (codes "$" ∷ codes "\\\n \\\r\n" ∷ codes "$" ∷ codes " " ∷ codes "$" ∷ codes "(" ∷ codes "a" ∷ codes ")" ∷ codes "$" ∷ codes "\\\n\\\r\n " ∷ []) (span 0 2 ∷ span 2 4 ∷ span 4 8 ∷ span 8 10 ∷ []) (span 0 10 ∷ []) ∷ []
row_15 = refl

row_16 : seen (codes "\\{\\\n\\\\") ≡ Seen (codes "\\{\\\n\\\\") None (false ∷ false ∷ false ∷ true ∷ []) (codes "\\{ \\\\") (codes "\\" ∷ codes "{" ∷ codes "\\\n" ∷ codes "\\" ∷ codes "\\" ∷ []) (span 0 2 ∷ span 2 3 ∷ span 3 5 ∷ []) (span 0 2 ∷ span 3 5 ∷ []) ∷ []
row_16 = refl

row_17 : seen (codes "\\$(a)") ≡ Seen (codes "\\$(a)") None (false ∷ false ∷ false ∷ true ∷ []) (codes "\\$(a)") (codes "\\" ∷ codes "$" ∷ codes "(" ∷ codes "a" ∷ codes ")" ∷ []) (span 0 1 ∷ span 1 5 ∷ []) (span 0 5 ∷ []) ∷ []
row_17 = refl

row_18 : seen (codes " \\\n $\\") ≡ Seen (codes " \\\n $\\") None (true ∷ false ∷ false ∷ true ∷ []) (codes " $\\") (codes " \\\n " ∷ codes "$" ∷ codes "\\" ∷ []) (span 0 1 ∷ span 1 3 ∷ []) (span 1 3 ∷ []) ∷ []
row_18 = refl

row_19 : seen (codes "\t\0}\n(\\$(") ≡ Seen (codes "\t\0}\n") Lf (false ∷ false ∷ true ∷ true ∷ []) (codes "\t\0}") (codes "\t" ∷ codes "\0" ∷ codes "}" ∷ []) (span 0 1 ∷ span 1 2 ∷ span 2 3 ∷ []) (span 1 3 ∷ []) ∷ Seen (codes "(\\$(") None (false ∷ false ∷ false ∷ false ∷ []) (codes "(\\$(") (codes "(" ∷ codes "\\" ∷ codes "$" ∷ codes "(" ∷ []) (span 0 1 ∷ span 1 2 ∷ span 2 4 ∷ []) (span 0 4 ∷ []) ∷ []
row_19 = refl

row_20 : seen (codes "\n\t${\n\r\n\0\n{\r\n){\\\\\n") ≡ Seen (codes "\n") Lf (false ∷ false ∷ false ∷ true ∷ []) [] [] [] [] ∷ Seen (codes "\t${\n") Lf (false ∷ false ∷ false ∷ false ∷ []) (codes "\t${") (codes "\t" ∷ codes "$" ∷ codes "{" ∷ []) (span 0 1 ∷ span 1 3 ∷ []) (span 1 3 ∷ []) ∷ Seen (codes "\r\n") CrLf (false ∷ false ∷ false ∷ true ∷ []) [] [] [] [] ∷ Seen (codes "\0\n") Lf (false ∷ false ∷ true ∷ true ∷ []) (codes "\0") (codes "\0" ∷ []) (span 0 1 ∷ []) (span 0 1 ∷ []) ∷ Seen (codes "{\r\n") CrLf (false ∷ false ∷ false ∷ true ∷ []) (codes "{") (codes "{" ∷ []) (span 0 1 ∷ []) (span 0 1 ∷ []) ∷ Seen (codes "){\\\\\n") Lf (false ∷ false ∷ false ∷ true ∷ []) (codes "){\\\\") (codes ")" ∷ codes "{" ∷ codes "\\" ∷ codes "\\" ∷ []) (span 0 1 ∷ span 1 2 ∷ span 2 4 ∷ []) (span 0 4 ∷ []) ∷ []
row_20 = refl

row_21 : seen (codes "a)") ≡ Seen (codes "a)") None (false ∷ false ∷ false ∷ true ∷ []) (codes "a)") (codes "a" ∷ codes ")" ∷ []) (span 0 1 ∷ span 1 2 ∷ []) (span 0 2 ∷ []) ∷ []
row_21 = refl

row_22 : seen (codes "\\ #}\\\r\n#\\") ≡ Seen (codes "\\ #}\\\r\n#\\") None (true ∷ false ∷ false ∷ false ∷ []) (codes "\\ #} #\\") (codes "\\" ∷ codes " " ∷ codes "#" ∷ codes "}" ∷ codes "\\\r\n" ∷ codes "#" ∷ codes "\\" ∷ []) (span 0 2 ∷ span 2 3 ∷ span 3 4 ∷ span 4 5 ∷ span 5 6 ∷ span 6 7 ∷ []) (span 0 4 ∷ span 5 7 ∷ []) ∷ []
row_22 = refl

row_23 : seen (codes "\r\n{\\\\") ≡ Seen (codes "\r\n") CrLf (false ∷ false ∷ false ∷ true ∷ []) [] [] [] [] ∷ Seen (codes "{\\\\") None (false ∷ false ∷ false ∷ true ∷ []) (codes "{\\\\") (codes "{" ∷ codes "\\" ∷ codes "\\" ∷ []) (span 0 1 ∷ span 1 3 ∷ []) (span 0 3 ∷ []) ∷ []
row_23 = refl

row_24 : seen (codes "${$${ \\\n  \\\n  \ra(\\\na") ≡ Seen (codes "${$${ \\\n  \\\n  \ra(\\\na") None (false ∷ false ∷ true ∷ false ∷ []) (codes "${$${ \ra( a") (codes "$" ∷ codes "{" ∷ codes "$" ∷ codes "$" ∷ codes "{" ∷ codes " \\\n  \\\n  " ∷ codes "\r" ∷ codes "a" ∷ codes "(" ∷ codes "\\\n" ∷ codes "a" ∷ []) (span 0 11 ∷ []) (span 0 11 ∷ []) ∷ []
row_24 = refl

row_25 : seen (codes "\0($(a)\\)\\\n\0\n\n${\\\\\n$(a)") ≡ Seen (codes "\0($(a)\\)\\\n\0\n") Lf (false ∷ false ∷ true ∷ true ∷ []) (codes "\0($(a)\\) \0") (codes "\0" ∷ codes "(" ∷ codes "$" ∷ codes "(" ∷ codes "a" ∷ codes ")" ∷ codes "\\" ∷ codes ")" ∷ codes "\\\n" ∷ codes "\0" ∷ []) (span 0 1 ∷ span 1 2 ∷ span 2 6 ∷ span 6 8 ∷ span 8 9 ∷ span 9 10 ∷ []) (span 0 8 ∷ span 9 10 ∷ []) ∷ Seen (codes "\n") Lf (false ∷ false ∷ false ∷ true ∷ []) [] [] [] [] ∷ Seen (codes "${\\\\\n") Lf (false ∷ false ∷ false ∷ false ∷ []) (codes "${\\\\") (codes "$" ∷ codes "{" ∷ codes "\\" ∷ codes "\\" ∷ []) (span 0 4 ∷ []) (span 0 4 ∷ []) ∷ Seen (codes "$(a)") None (false ∷ false ∷ false ∷ true ∷ []) (codes "$(a)") (codes "$" ∷ codes "(" ∷ codes "a" ∷ codes ")" ∷ []) (span 0 4 ∷ []) (span 0 4 ∷ []) ∷ []
row_25 = refl

row_26 : seen (codes "${#$({\t\\\r\n\\\n${aa") ≡ Seen (codes "${#$({\t\\\r\n\\\n${aa") None (false ∷ false ∷ false ∷ false ∷ []) (codes "${#$({ ${aa") (codes "$" ∷ codes "{" ∷ codes "#" ∷ codes "$" ∷ codes "(" ∷ codes "{" ∷ codes "\t\\\r\n\\\n" ∷ codes "$" ∷ codes "{" ∷ codes "a" ∷ codes "a" ∷ []) (span 0 11 ∷ []) (span 0 11 ∷ []) ∷ []
row_26 = refl

row_27 : seen (codes "${\n\naaa\\\r\na$(} ") ≡ Seen (codes "${\n") Lf (false ∷ false ∷ false ∷ false ∷ []) (codes "${") (codes "$" ∷ codes "{" ∷ []) (span 0 2 ∷ []) (span 0 2 ∷ []) ∷ Seen (codes "\n") Lf (false ∷ false ∷ false ∷ true ∷ []) [] [] [] [] ∷ Seen (codes "aaa\\\r\na$(} ") None (false ∷ false ∷ false ∷ false ∷ []) (codes "aaa a$(} ") (codes "a" ∷ codes "a" ∷ codes "a" ∷ codes "\\\r\n" ∷ codes "a" ∷ codes "$" ∷ codes "(" ∷ codes "}" ∷ codes " " ∷ []) (span 0 1 ∷ span 1 2 ∷ span 2 3 ∷ span 3 4 ∷ span 4 5 ∷ span 5 9 ∷ []) (span 0 3 ∷ span 4 9 ∷ []) ∷ []
row_27 = refl

row_28 : seen (codes "\n\\\r") ≡ Seen (codes "\n") Lf (false ∷ false ∷ false ∷ true ∷ []) [] [] [] [] ∷ Seen (codes "\\\r") None (true ∷ false ∷ true ∷ true ∷ []) (codes "\\\r") (codes "\\" ∷ codes "\r" ∷ []) (span 0 2 ∷ []) (span 0 2 ∷ []) ∷ []
row_28 = refl

row_29 : seen (codes "$(\\\t $\\\\a\\\r\n") ≡ Seen (codes "$(\\\t $\\\\a\\\r\n") CrLf (true ∷ false ∷ false ∷ false ∷ []) (codes "$(\\\t $\\\\a\\") (codes "$" ∷ codes "(" ∷ codes "\\" ∷ codes "\t" ∷ codes " " ∷ codes "$" ∷ codes "\\" ∷ codes "\\" ∷ codes "a" ∷ codes "\\" ∷ []) (span 0 10 ∷ []) (span 0 10 ∷ []) ∷ []
row_29 = refl

row_30 : seen (codes "a\\)") ≡ Seen (codes "a\\)") None (false ∷ false ∷ false ∷ true ∷ []) (codes "a\\)") (codes "a" ∷ codes "\\" ∷ codes ")" ∷ []) (span 0 1 ∷ span 1 3 ∷ []) (span 0 3 ∷ []) ∷ []
row_30 = refl

row_31 : seen (codes "\n a($\\\n\\{") ≡ Seen (codes "\n") Lf (false ∷ false ∷ false ∷ true ∷ []) [] [] [] [] ∷ Seen (codes " a($\\\n\\{") None (false ∷ false ∷ false ∷ true ∷ []) (codes " a($ \\{") (codes " " ∷ codes "a" ∷ codes "(" ∷ codes "$" ∷ codes "\\\n" ∷ codes "\\" ∷ codes "{" ∷ []) (span 0 1 ∷ span 1 2 ∷ span 2 3 ∷ span 3 5 ∷ span 5 7 ∷ []) (span 1 7 ∷ []) ∷ []
row_31 = refl

row_32 : seen (codes "\0\r\n#\r\n") ≡ Seen (codes "\0\r\n") CrLf (false ∷ false ∷ true ∷ true ∷ []) (codes "\0") (codes "\0" ∷ []) (span 0 1 ∷ []) (span 0 1 ∷ []) ∷ Seen (codes "#\r\n") CrLf (false ∷ false ∷ false ∷ true ∷ []) (codes "#") (codes "#" ∷ []) (span 0 1 ∷ []) (span 0 1 ∷ []) ∷ []
row_32 = refl

row_33 : seen (codes "$(\r\n#\n$") ≡ Seen (codes "$(\r\n") CrLf (false ∷ false ∷ false ∷ false ∷ []) (codes "$(") (codes "$" ∷ codes "(" ∷ []) (span 0 2 ∷ []) (span 0 2 ∷ []) ∷ Seen (codes "#\n") Lf (false ∷ false ∷ false ∷ true ∷ []) (codes "#") (codes "#" ∷ []) (span 0 1 ∷ []) (span 0 1 ∷ []) ∷ Seen (codes "$") None (false ∷ false ∷ false ∷ false ∷ []) (codes "$") (codes "$" ∷ []) (span 0 1 ∷ []) (span 0 1 ∷ []) ∷ []
row_33 = refl

row_34 : seen (codes "\n(\t\\\r\n\\\\\na$\\\n}") ≡ Seen (codes "\n") Lf (false ∷ false ∷ false ∷ true ∷ []) [] [] [] [] ∷ Seen (codes "(\t\\\r\n\\\\\n") Lf (false ∷ false ∷ false ∷ true ∷ []) (codes "( \\\\") (codes "(" ∷ codes "\t\\\r\n" ∷ codes "\\" ∷ codes "\\" ∷ []) (span 0 1 ∷ span 1 2 ∷ span 2 4 ∷ []) (span 0 1 ∷ span 2 4 ∷ []) ∷ Seen (codes "a$\\\n}") None (false ∷ false ∷ false ∷ true ∷ []) (codes "a$ }") (codes "a" ∷ codes "$" ∷ codes "\\\n" ∷ codes "}" ∷ []) (span 0 1 ∷ span 1 3 ∷ span 3 4 ∷ []) (span 0 4 ∷ []) ∷ []
row_34 = refl

row_35 : seen (codes "  \\\\\n \t#a") ≡ Seen (codes "  \\\\\n") Lf (false ∷ false ∷ false ∷ true ∷ []) (codes "  \\\\") (codes " " ∷ codes " " ∷ codes "\\" ∷ codes "\\" ∷ []) (span 0 1 ∷ span 1 2 ∷ span 2 4 ∷ []) (span 2 4 ∷ []) ∷ Seen (codes " \t#a") None (false ∷ false ∷ false ∷ true ∷ []) (codes " \t#a") (codes " " ∷ codes "\t" ∷ codes "#" ∷ codes "a" ∷ []) (span 0 1 ∷ span 1 2 ∷ span 2 3 ∷ span 3 4 ∷ []) (span 2 4 ∷ []) ∷ []
row_35 = refl

row_36 : seen (codes "\0$(\r\\\\\n\r}\n") ≡ Seen (codes "\0$(\r\\\\\n") Lf (false ∷ false ∷ true ∷ false ∷ []) (codes "\0$(\r\\\\") (codes "\0" ∷ codes "$" ∷ codes "(" ∷ codes "\r" ∷ codes "\\" ∷ codes "\\" ∷ []) (span 0 1 ∷ span 1 6 ∷ []) (span 0 6 ∷ []) ∷ Seen (codes "\r}\n") Lf (false ∷ false ∷ true ∷ true ∷ []) (codes "\r}") (codes "\r" ∷ codes "}" ∷ []) (span 0 1 ∷ span 1 2 ∷ []) (span 0 2 ∷ []) ∷ []
row_36 = refl

row_37 : seen (codes "(\\#\ta\\)a\\a") ≡ Seen (codes "(\\#\ta\\)a\\a") None (false ∷ false ∷ false ∷ true ∷ []) (codes "(\\#\ta\\)a\\a") (codes "(" ∷ codes "\\" ∷ codes "#" ∷ codes "\t" ∷ codes "a" ∷ codes "\\" ∷ codes ")" ∷ codes "a" ∷ codes "\\" ∷ codes "a" ∷ []) (span 0 1 ∷ span 1 3 ∷ span 3 4 ∷ span 4 5 ∷ span 5 7 ∷ span 7 8 ∷ span 8 10 ∷ []) (span 0 3 ∷ span 4 10 ∷ []) ∷ []
row_37 = refl

row_38 : seen (codes "\t$a") ≡ Seen (codes "\t$a") None (false ∷ false ∷ false ∷ true ∷ []) (codes "\t$a") (codes "\t" ∷ codes "$" ∷ codes "a" ∷ []) (span 0 1 ∷ span 1 3 ∷ []) (span 1 3 ∷ []) ∷ []
row_38 = refl

row_39 : seen (codes "{") ≡ Seen (codes "{") None (false ∷ false ∷ false ∷ true ∷ []) (codes "{") (codes "{" ∷ []) (span 0 1 ∷ []) (span 0 1 ∷ []) ∷ []
row_39 = refl

row_40 : seen (codes "\0\n\n$\\\n$\\\n$(a)\\\r\n\\ \\\n \t{(") ≡ Seen (codes "\0\n") Lf (false ∷ false ∷ true ∷ true ∷ []) (codes "\0") (codes "\0" ∷ []) (span 0 1 ∷ []) (span 0 1 ∷ []) ∷ Seen (codes "\n") Lf (false ∷ false ∷ false ∷ true ∷ []) [] [] [] [] ∷ Seen (codes "$\\\n$\\\n$(a)\\\r\n\\ \\\n \t{(") None (false ∷ true ∷ false ∷ true ∷ []) (codes "$ $ $(a) \\ {(") (codes "$" ∷ codes "\\\n" ∷ codes "$" ∷ codes "\\\n" ∷ codes "$" ∷ codes "(" ∷ codes "a" ∷ codes ")" ∷ codes "\\\r\n" ∷ codes "\\" ∷ codes " \\\n \t" ∷ codes "{" ∷ codes "(" ∷ []) (span 0 2 ∷ span 2 4 ∷ span 4 8 ∷ span 8 9 ∷ span 9 11 ∷ span 11 12 ∷ span 12 13 ∷ []) (span 0 8 ∷ span 9 13 ∷ []) ∷ []
row_40 = refl

row_41 : seen (codes "\\\r\n\\$\\\na") ≡ Seen (codes "\\\r\n\\$\\\na") None (false ∷ false ∷ false ∷ true ∷ []) (codes " \\$ a") (codes "\\\r\n" ∷ codes "\\" ∷ codes "$" ∷ codes "\\\n" ∷ codes "a" ∷ []) (span 0 1 ∷ span 1 2 ∷ span 2 4 ∷ span 4 5 ∷ []) (span 1 5 ∷ []) ∷ []
row_41 = refl

row_42 : seen (codes "$\\\n\na)a\\a\n)( \\\n #") ≡ Seen (codes "$\\\n\n") Lf (false ∷ false ∷ false ∷ true ∷ []) (codes "$ ") (codes "$" ∷ codes "\\\n" ∷ []) (span 0 2 ∷ []) (span 0 2 ∷ []) ∷ Seen (codes "a)a\\a\n") Lf (false ∷ false ∷ false ∷ true ∷ []) (codes "a)a\\a") (codes "a" ∷ codes ")" ∷ codes "a" ∷ codes "\\" ∷ codes "a" ∷ []) (span 0 1 ∷ span 1 2 ∷ span 2 3 ∷ span 3 5 ∷ []) (span 0 5 ∷ []) ∷ Seen (codes ")( \\\n #") None (false ∷ false ∷ false ∷ true ∷ []) (codes ")( #") (codes ")" ∷ codes "(" ∷ codes " \\\n " ∷ codes "#" ∷ []) (span 0 1 ∷ span 1 2 ∷ span 2 3 ∷ span 3 4 ∷ []) (span 0 2 ∷ span 3 4 ∷ []) ∷ []
row_42 = refl

row_43 : seen (codes "${$ \\\n \n\t\r\n}") ≡ Seen (codes "${$ \\\n \n") Lf (false ∷ false ∷ false ∷ false ∷ []) (codes "${$ ") (codes "$" ∷ codes "{" ∷ codes "$" ∷ codes " \\\n " ∷ []) (span 0 4 ∷ []) (span 0 4 ∷ []) ∷ Seen (codes "\t\r\n") CrLf (false ∷ false ∷ false ∷ true ∷ []) (codes "\t") (codes "\t" ∷ []) (span 0 1 ∷ []) [] ∷ Seen (codes "}") None (false ∷ false ∷ false ∷ true ∷ []) (codes "}") (codes "}" ∷ []) (span 0 1 ∷ []) (span 0 1 ∷ []) ∷ []
row_43 = refl

row_44 : seen (codes "$(a)\\") ≡ Seen (codes "$(a)\\") None (true ∷ false ∷ false ∷ false ∷ []) (codes "$(a)\\") (codes "$" ∷ codes "(" ∷ codes "a" ∷ codes ")" ∷ codes "\\" ∷ []) (span 0 4 ∷ span 4 5 ∷ []) (span 0 5 ∷ []) ∷ []
row_44 = refl

row_45 : seen (codes "\\\n(\n") ≡ Seen (codes "\\\n(\n") Lf (false ∷ false ∷ false ∷ true ∷ []) (codes " (") (codes "\\\n" ∷ codes "(" ∷ []) (span 0 1 ∷ span 1 2 ∷ []) (span 1 2 ∷ []) ∷ []
row_45 = refl

row_46 : seen (codes "a{ \\\n $(a)\\\\\n$)\n\t$(#\r\n") ≡ Seen (codes "a{ \\\n $(a)\\\\\n") Lf (false ∷ false ∷ false ∷ true ∷ []) (codes "a{ $(a)\\\\") (codes "a" ∷ codes "{" ∷ codes " \\\n " ∷ codes "$" ∷ codes "(" ∷ codes "a" ∷ codes ")" ∷ codes "\\" ∷ codes "\\" ∷ []) (span 0 1 ∷ span 1 2 ∷ span 2 3 ∷ span 3 7 ∷ span 7 9 ∷ []) (span 0 2 ∷ span 3 9 ∷ []) ∷ Seen (codes "$)\n") Lf (false ∷ false ∷ false ∷ true ∷ []) (codes "$)") (codes "$" ∷ codes ")" ∷ []) (span 0 2 ∷ []) (span 0 2 ∷ []) ∷ Seen (codes "\t$(#\r\n") CrLf (false ∷ false ∷ false ∷ false ∷ []) (codes "\t$(#") (codes "\t" ∷ codes "$" ∷ codes "(" ∷ codes "#" ∷ []) (span 0 1 ∷ span 1 4 ∷ []) (span 1 4 ∷ []) ∷ []
row_46 = refl

row_47 : seen (codes "\\\n ") ≡ Seen (codes "\\\n ") None (false ∷ false ∷ false ∷ true ∷ []) (codes " ") (codes "\\\n " ∷ []) (span 0 1 ∷ []) [] ∷ []
row_47 = refl

row_48 : seen (codes "}\t \\\n \\ \\\n \0$(a)") ≡ Seen (codes "}\t \\\n \\ \\\n \0$(a)") None (false ∷ true ∷ true ∷ true ∷ []) (codes "} \\ \0$(a)") (codes "}" ∷ codes "\t \\\n " ∷ codes "\\" ∷ codes " \\\n " ∷ codes "\0" ∷ codes "$" ∷ codes "(" ∷ codes "a" ∷ codes ")" ∷ []) (span 0 1 ∷ span 1 2 ∷ span 2 4 ∷ span 4 5 ∷ span 5 9 ∷ []) (span 0 1 ∷ span 2 9 ∷ []) ∷ []
row_48 = refl

row_49 : seen (codes "\\\\\n}\\\r\\") ≡ Seen (codes "\\\\\n") Lf (false ∷ false ∷ false ∷ true ∷ []) (codes "\\\\") (codes "\\" ∷ codes "\\" ∷ []) (span 0 2 ∷ []) (span 0 2 ∷ []) ∷ Seen (codes "}\\\r\\") None (true ∷ false ∷ true ∷ false ∷ []) (codes "}\\\r\\") (codes "}" ∷ codes "\\" ∷ codes "\r" ∷ codes "\\" ∷ []) (span 0 1 ∷ span 1 3 ∷ span 3 4 ∷ []) (span 0 4 ∷ []) ∷ []
row_49 = refl

row_50 : seen (codes "\n\\\n$(\t") ≡ Seen (codes "\n") Lf (false ∷ false ∷ false ∷ true ∷ []) [] [] [] [] ∷ Seen (codes "\\\n$(\t") None (false ∷ false ∷ false ∷ false ∷ []) (codes " $(\t") (codes "\\\n" ∷ codes "$" ∷ codes "(" ∷ codes "\t" ∷ []) (span 0 1 ∷ span 1 4 ∷ []) (span 1 4 ∷ []) ∷ []
row_50 = refl

row_51 : seen (codes "{) \\\n aa\\") ≡ Seen (codes "{) \\\n aa\\") None (true ∷ false ∷ false ∷ false ∷ []) (codes "{) aa\\") (codes "{" ∷ codes ")" ∷ codes " \\\n " ∷ codes "a" ∷ codes "a" ∷ codes "\\" ∷ []) (span 0 1 ∷ span 1 2 ∷ span 2 3 ∷ span 3 4 ∷ span 4 5 ∷ span 5 6 ∷ []) (span 0 2 ∷ span 3 6 ∷ []) ∷ []
row_51 = refl

row_52 : seen (codes "\0$\\\n\\a\\\\") ≡ Seen (codes "\0$\\\n\\a\\\\") None (false ∷ false ∷ true ∷ true ∷ []) (codes "\0$ \\a\\\\") (codes "\0" ∷ codes "$" ∷ codes "\\\n" ∷ codes "\\" ∷ codes "a" ∷ codes "\\" ∷ codes "\\" ∷ []) (span 0 1 ∷ span 1 3 ∷ span 3 5 ∷ span 5 7 ∷ []) (span 0 7 ∷ []) ∷ []
row_52 = refl

row_53 : seen (codes "\r\n\\\\\r\n") ≡ Seen (codes "\r\n") CrLf (false ∷ false ∷ false ∷ true ∷ []) [] [] [] [] ∷ Seen (codes "\\\\\r\n") CrLf (false ∷ false ∷ false ∷ true ∷ []) (codes "\\\\") (codes "\\" ∷ codes "\\" ∷ []) (span 0 2 ∷ []) (span 0 2 ∷ []) ∷ []
row_53 = refl

row_54 : seen (codes " ${$\\\n \\\n \n$\\\n{\\\t") ≡ Seen (codes " ${$\\\n \\\n \n") Lf (false ∷ false ∷ false ∷ false ∷ []) (codes " ${$ ") (codes " " ∷ codes "$" ∷ codes "{" ∷ codes "$" ∷ codes "\\\n \\\n " ∷ []) (span 0 1 ∷ span 1 5 ∷ []) (span 1 5 ∷ []) ∷ Seen (codes "$\\\n{\\\t") None (false ∷ false ∷ false ∷ true ∷ []) (codes "$ {\\\t") (codes "$" ∷ codes "\\\n" ∷ codes "{" ∷ codes "\\" ∷ codes "\t" ∷ []) (span 0 2 ∷ span 2 3 ∷ span 3 5 ∷ []) (span 0 5 ∷ []) ∷ []
row_54 = refl

row_55 : seen (codes " ") ≡ Seen (codes " ") None (false ∷ false ∷ false ∷ true ∷ []) (codes " ") (codes " " ∷ []) (span 0 1 ∷ []) [] ∷ []
row_55 = refl

row_56 : seen (codes "$(a)}\r\n( \t#$\n\0#\0") ≡ Seen (codes "$(a)}\r\n") CrLf (false ∷ false ∷ false ∷ true ∷ []) (codes "$(a)}") (codes "$" ∷ codes "(" ∷ codes "a" ∷ codes ")" ∷ codes "}" ∷ []) (span 0 4 ∷ span 4 5 ∷ []) (span 0 5 ∷ []) ∷ Seen (codes "( \t#$\n") Lf (false ∷ false ∷ false ∷ false ∷ []) (codes "( \t#$") (codes "(" ∷ codes " " ∷ codes "\t" ∷ codes "#" ∷ codes "$" ∷ []) (span 0 1 ∷ span 1 2 ∷ span 2 3 ∷ span 3 4 ∷ span 4 5 ∷ []) (span 0 1 ∷ span 3 5 ∷ []) ∷ Seen (codes "\0#\0") None (false ∷ false ∷ true ∷ true ∷ []) (codes "\0#\0") (codes "\0" ∷ codes "#" ∷ codes "\0" ∷ []) (span 0 1 ∷ span 1 2 ∷ span 2 3 ∷ []) (span 0 3 ∷ []) ∷ []
row_56 = refl

row_57 : seen (codes "}") ≡ Seen (codes "}") None (false ∷ false ∷ false ∷ true ∷ []) (codes "}") (codes "}" ∷ []) (span 0 1 ∷ []) (span 0 1 ∷ []) ∷ []
row_57 = refl

row_58 : seen (codes "${ ${\\\r\n$\\\n}{\r\r${ #") ≡ Seen (codes "${ ${\\\r\n$\\\n}{\r\r${ #") None (false ∷ false ∷ true ∷ false ∷ []) (codes "${ ${ $ }{\r\r${ #") (codes "$" ∷ codes "{" ∷ codes " " ∷ codes "$" ∷ codes "{" ∷ codes "\\\r\n" ∷ codes "$" ∷ codes "\\\n" ∷ codes "}" ∷ codes "{" ∷ codes "\r" ∷ codes "\r" ∷ codes "$" ∷ codes "{" ∷ codes " " ∷ codes "#" ∷ []) (span 0 16 ∷ []) (span 0 16 ∷ []) ∷ []
row_58 = refl

row_59 : seen (codes "{ ") ≡ Seen (codes "{ ") None (false ∷ false ∷ false ∷ true ∷ []) (codes "{ ") (codes "{" ∷ codes " " ∷ []) (span 0 1 ∷ span 1 2 ∷ []) (span 0 1 ∷ []) ∷ []
row_59 = refl

row_60 : seen (codes "\\\\$\\\n{# a} $$(#") ≡ Seen (codes "\\\\$\\\n{# a} $$(#") None (false ∷ false ∷ false ∷ true ∷ []) (codes "\\\\$ {# a} $$(#") (codes "\\" ∷ codes "\\" ∷ codes "$" ∷ codes "\\\n" ∷ codes "{" ∷ codes "#" ∷ codes " " ∷ codes "a" ∷ codes "}" ∷ codes " " ∷ codes "$" ∷ codes "$" ∷ codes "(" ∷ codes "#" ∷ []) (span 0 2 ∷ span 2 4 ∷ span 4 5 ∷ span 5 6 ∷ span 6 7 ∷ span 7 8 ∷ span 8 9 ∷ span 9 10 ∷ span 10 12 ∷ span 12 13 ∷ span 13 14 ∷ []) (span 0 6 ∷ span 7 9 ∷ span 10 14 ∷ []) ∷ []
row_60 = refl

row_61 : seen (codes "$a\\\r\n") ≡ Seen (codes "$a\\\r\n") CrLf (true ∷ false ∷ false ∷ false ∷ []) (codes "$a\\") (codes "$" ∷ codes "a" ∷ codes "\\" ∷ []) (span 0 2 ∷ span 2 3 ∷ []) (span 0 3 ∷ []) ∷ []
row_61 = refl

row_62 : seen (codes "\\\\\r\n\r\\($\n${\n") ≡ Seen (codes "\\\\\r\n") CrLf (false ∷ false ∷ false ∷ true ∷ []) (codes "\\\\") (codes "\\" ∷ codes "\\" ∷ []) (span 0 2 ∷ []) (span 0 2 ∷ []) ∷ Seen (codes "\r\\($\n") Lf (false ∷ false ∷ true ∷ false ∷ []) (codes "\r\\($") (codes "\r" ∷ codes "\\" ∷ codes "(" ∷ codes "$" ∷ []) (span 0 1 ∷ span 1 3 ∷ span 3 4 ∷ []) (span 0 4 ∷ []) ∷ Seen (codes "${\n") Lf (false ∷ false ∷ false ∷ false ∷ []) (codes "${") (codes "$" ∷ codes "{" ∷ []) (span 0 2 ∷ []) (span 0 2 ∷ []) ∷ []
row_62 = refl

row_63 : seen (codes ")a) (\\{\\\t\n$\\\n#") ≡ Seen (codes ")a) (\\{\\\t\n") Lf (false ∷ false ∷ false ∷ true ∷ []) (codes ")a) (\\{\\\t") (codes ")" ∷ codes "a" ∷ codes ")" ∷ codes " " ∷ codes "(" ∷ codes "\\" ∷ codes "{" ∷ codes "\\" ∷ codes "\t" ∷ []) (span 0 1 ∷ span 1 2 ∷ span 2 3 ∷ span 3 4 ∷ span 4 5 ∷ span 5 7 ∷ span 7 9 ∷ []) (span 0 3 ∷ span 4 9 ∷ []) ∷ Seen (codes "$\\\n#") None (false ∷ false ∷ false ∷ true ∷ []) (codes "$ #") (codes "$" ∷ codes "\\\n" ∷ codes "#" ∷ []) (span 0 2 ∷ span 2 3 ∷ []) (span 0 3 ∷ []) ∷ []
row_63 = refl

row_64 : seen (codes "\\\\\n$(a\\\r\n\r \0") ≡ Seen (codes "\\\\\n") Lf (false ∷ false ∷ false ∷ true ∷ []) (codes "\\\\") (codes "\\" ∷ codes "\\" ∷ []) (span 0 2 ∷ []) (span 0 2 ∷ []) ∷ Seen (codes "$(a\\\r\n\r \0") None (false ∷ false ∷ true ∷ false ∷ []) (codes "$(a \r \0") (codes "$" ∷ codes "(" ∷ codes "a" ∷ codes "\\\r\n" ∷ codes "\r" ∷ codes " " ∷ codes "\0" ∷ []) (span 0 7 ∷ []) (span 0 7 ∷ []) ∷ []
row_64 = refl

row_65 : seen (codes "\0\n\ra\n\r$$\\#$(a)") ≡ Seen (codes "\0\n") Lf (false ∷ false ∷ true ∷ true ∷ []) (codes "\0") (codes "\0" ∷ []) (span 0 1 ∷ []) (span 0 1 ∷ []) ∷ Seen (codes "\ra\n") Lf (false ∷ false ∷ true ∷ true ∷ []) (codes "\ra") (codes "\r" ∷ codes "a" ∷ []) (span 0 1 ∷ span 1 2 ∷ []) (span 0 2 ∷ []) ∷ Seen (codes "\r$$\\#$(a)") None (false ∷ false ∷ true ∷ true ∷ []) (codes "\r$$\\#$(a)") (codes "\r" ∷ codes "$" ∷ codes "$" ∷ codes "\\" ∷ codes "#" ∷ codes "$" ∷ codes "(" ∷ codes "a" ∷ codes ")" ∷ []) (span 0 1 ∷ span 1 3 ∷ span 3 5 ∷ span 5 9 ∷ []) (span 0 9 ∷ []) ∷ []
row_65 = refl

row_66 : seen (codes "\\\\\t{ \n\t") ≡ Seen (codes "\\\\\t{ \n") Lf (false ∷ false ∷ false ∷ true ∷ []) (codes "\\\\\t{ ") (codes "\\" ∷ codes "\\" ∷ codes "\t" ∷ codes "{" ∷ codes " " ∷ []) (span 0 2 ∷ span 2 3 ∷ span 3 4 ∷ span 4 5 ∷ []) (span 0 2 ∷ span 3 4 ∷ []) ∷ Seen (codes "\t") None (false ∷ false ∷ false ∷ true ∷ []) (codes "\t") (codes "\t" ∷ []) (span 0 1 ∷ []) [] ∷ []
row_66 = refl

row_67 : seen (codes "\n\n \\\n  #\n\r\n") ≡ Seen (codes "\n") Lf (false ∷ false ∷ false ∷ true ∷ []) [] [] [] [] ∷ Seen (codes "\n") Lf (false ∷ false ∷ false ∷ true ∷ []) [] [] [] [] ∷ Seen (codes " \\\n  #\n") Lf (false ∷ false ∷ false ∷ true ∷ []) (codes " #") (codes " \\\n  " ∷ codes "#" ∷ []) (span 0 1 ∷ span 1 2 ∷ []) (span 1 2 ∷ []) ∷ Seen (codes "\r\n") CrLf (false ∷ false ∷ false ∷ true ∷ []) [] [] [] [] ∷ []
row_67 = refl

row_68 : seen (codes " \n\\\\\n\t\\\r\n)\\\n\\$\\") ≡ Seen (codes " \n") Lf (false ∷ false ∷ false ∷ true ∷ []) (codes " ") (codes " " ∷ []) (span 0 1 ∷ []) [] ∷ Seen (codes "\\\\\n") Lf (false ∷ false ∷ false ∷ true ∷ []) (codes "\\\\") (codes "\\" ∷ codes "\\" ∷ []) (span 0 2 ∷ []) (span 0 2 ∷ []) ∷ Seen (codes "\t\\\r\n)\\\n\\$\\") None (true ∷ false ∷ false ∷ true ∷ []) (codes " ) \\$\\") (codes "\t\\\r\n" ∷ codes ")" ∷ codes "\\\n" ∷ codes "\\" ∷ codes "$" ∷ codes "\\" ∷ []) (span 0 1 ∷ span 1 2 ∷ span 2 3 ∷ span 3 4 ∷ span 4 6 ∷ []) (span 1 2 ∷ span 3 6 ∷ []) ∷ []
row_68 = refl

row_69 : seen (codes "\\\0\\\\\n\\{") ≡ Seen (codes "\\\0\\\\\n") Lf (false ∷ false ∷ true ∷ true ∷ []) (codes "\\\0\\\\") (codes "\\" ∷ codes "\0" ∷ codes "\\" ∷ codes "\\" ∷ []) (span 0 2 ∷ span 2 4 ∷ []) (span 0 4 ∷ []) ∷ Seen (codes "\\{") None (false ∷ false ∷ false ∷ true ∷ []) (codes "\\{") (codes "\\" ∷ codes "{" ∷ []) (span 0 2 ∷ []) (span 0 2 ∷ []) ∷ []
row_69 = refl

row_70 : seen (codes "\\a$(a)") ≡ Seen (codes "\\a$(a)") None (false ∷ false ∷ false ∷ true ∷ []) (codes "\\a$(a)") (codes "\\" ∷ codes "a" ∷ codes "$" ∷ codes "(" ∷ codes "a" ∷ codes ")" ∷ []) (span 0 2 ∷ span 2 6 ∷ []) (span 0 6 ∷ []) ∷ []
row_70 = refl

row_71 : seen (codes "}\n") ≡ Seen (codes "}\n") Lf (false ∷ false ∷ false ∷ true ∷ []) (codes "}") (codes "}" ∷ []) (span 0 1 ∷ []) (span 0 1 ∷ []) ∷ []
row_71 = refl

row_72 : seen (codes "\\\\\n$(a)($(\0\n\0") ≡ Seen (codes "\\\\\n") Lf (false ∷ false ∷ false ∷ true ∷ []) (codes "\\\\") (codes "\\" ∷ codes "\\" ∷ []) (span 0 2 ∷ []) (span 0 2 ∷ []) ∷ Seen (codes "$(a)($(\0\n") Lf (false ∷ false ∷ true ∷ false ∷ []) (codes "$(a)($(\0") (codes "$" ∷ codes "(" ∷ codes "a" ∷ codes ")" ∷ codes "(" ∷ codes "$" ∷ codes "(" ∷ codes "\0" ∷ []) (span 0 4 ∷ span 4 5 ∷ span 5 8 ∷ []) (span 0 8 ∷ []) ∷ Seen (codes "\0") None (false ∷ false ∷ true ∷ true ∷ []) (codes "\0") (codes "\0" ∷ []) (span 0 1 ∷ []) (span 0 1 ∷ []) ∷ []
row_72 = refl

row_73 : seen (codes "a\n${{") ≡ Seen (codes "a\n") Lf (false ∷ false ∷ false ∷ true ∷ []) (codes "a") (codes "a" ∷ []) (span 0 1 ∷ []) (span 0 1 ∷ []) ∷ Seen (codes "${{") None (false ∷ false ∷ false ∷ false ∷ []) (codes "${{") (codes "$" ∷ codes "{" ∷ codes "{" ∷ []) (span 0 3 ∷ []) (span 0 3 ∷ []) ∷ []
row_73 = refl

row_74 : seen (codes "\n") ≡ Seen (codes "\n") Lf (false ∷ false ∷ false ∷ true ∷ []) [] [] [] [] ∷ []
row_74 = refl

row_75 : seen (codes "\\$()$\n") ≡ Seen (codes "\\$()$\n") Lf (false ∷ false ∷ false ∷ false ∷ []) (codes "\\$()$") (codes "\\" ∷ codes "$" ∷ codes "(" ∷ codes ")" ∷ codes "$" ∷ []) (span 0 1 ∷ span 1 4 ∷ span 4 5 ∷ []) (span 0 5 ∷ []) ∷ []
row_75 = refl

row_76 : seen (codes "\\a\n\n{\n\n \\\n $") ≡ Seen (codes "\\a\n") Lf (false ∷ false ∷ false ∷ true ∷ []) (codes "\\a") (codes "\\" ∷ codes "a" ∷ []) (span 0 2 ∷ []) (span 0 2 ∷ []) ∷ Seen (codes "\n") Lf (false ∷ false ∷ false ∷ true ∷ []) [] [] [] [] ∷ Seen (codes "{\n") Lf (false ∷ false ∷ false ∷ true ∷ []) (codes "{") (codes "{" ∷ []) (span 0 1 ∷ []) (span 0 1 ∷ []) ∷ Seen (codes "\n") Lf (false ∷ false ∷ false ∷ true ∷ []) [] [] [] [] ∷ Seen (codes " \\\n $") None (false ∷ false ∷ false ∷ false ∷ []) (codes " $") (codes " \\\n " ∷ codes "$" ∷ []) (span 0 1 ∷ span 1 2 ∷ []) (span 1 2 ∷ []) ∷ []
row_76 = refl

row_77 : seen (codes "\n\\\ra(\n\\ \\\n )$\\\n\\\\") ≡ Seen (codes "\n") Lf (false ∷ false ∷ false ∷ true ∷ []) [] [] [] [] ∷ Seen (codes "\\\ra(\n") Lf (false ∷ false ∷ true ∷ true ∷ []) (codes "\\\ra(") (codes "\\" ∷ codes "\r" ∷ codes "a" ∷ codes "(" ∷ []) (span 0 2 ∷ span 2 3 ∷ span 3 4 ∷ []) (span 0 4 ∷ []) ∷ Seen (codes "\\ \\\n )$\\\n\\\\") None (false ∷ true ∷ false ∷ true ∷ []) (codes "\\ )$ \\\\") (codes "\\" ∷ codes " \\\n " ∷ codes ")" ∷ codes "$" ∷ codes "\\\n" ∷ codes "\\" ∷ codes "\\" ∷ []) (span 0 2 ∷ span 2 3 ∷ span 3 5 ∷ span 5 7 ∷ []) (span 0 7 ∷ []) ∷ []
row_77 = refl

row_78 : seen (codes "\r}\\}") ≡ Seen (codes "\r}\\}") None (false ∷ false ∷ true ∷ true ∷ []) (codes "\r}\\}") (codes "\r" ∷ codes "}" ∷ codes "\\" ∷ codes "}" ∷ []) (span 0 1 ∷ span 1 2 ∷ span 2 4 ∷ []) (span 0 4 ∷ []) ∷ []
row_78 = refl

row_79 : seen (codes "\r\na \r\\$ \\\n \\\\\\") ≡ Seen (codes "\r\n") CrLf (false ∷ false ∷ false ∷ true ∷ []) [] [] [] [] ∷ Seen (codes "a \r\\$ \\\n \\\\\\") None (true ∷ false ∷ true ∷ false ∷ []) (codes "a \r\\$ \\\\\\") (codes "a" ∷ codes " " ∷ codes "\r" ∷ codes "\\" ∷ codes "$" ∷ codes " \\\n " ∷ codes "\\" ∷ codes "\\" ∷ codes "\\" ∷ []) (span 0 1 ∷ span 1 2 ∷ span 2 3 ∷ span 3 4 ∷ span 4 6 ∷ span 6 8 ∷ span 8 9 ∷ []) (span 0 1 ∷ span 2 9 ∷ []) ∷ []
row_79 = refl

row_80 : seen (codes "{  \\\n  a") ≡ Seen (codes "{  \\\n  a") None (false ∷ false ∷ false ∷ true ∷ []) (codes "{ a") (codes "{" ∷ codes "  \\\n  " ∷ codes "a" ∷ []) (span 0 1 ∷ span 1 2 ∷ span 2 3 ∷ []) (span 0 1 ∷ span 2 3 ∷ []) ∷ []
row_80 = refl

row_81 : seen (codes "${\r\\a${#\r\n\t)\0") ≡ Seen (codes "${\r\\a${#\r\n") CrLf (false ∷ false ∷ true ∷ false ∷ []) (codes "${\r\\a${#") (codes "$" ∷ codes "{" ∷ codes "\r" ∷ codes "\\" ∷ codes "a" ∷ codes "$" ∷ codes "{" ∷ codes "#" ∷ []) (span 0 8 ∷ []) (span 0 8 ∷ []) ∷ Seen (codes "\t)\0") None (false ∷ false ∷ true ∷ true ∷ []) (codes "\t)\0") (codes "\t" ∷ codes ")" ∷ codes "\0" ∷ []) (span 0 1 ∷ span 1 2 ∷ span 2 3 ∷ []) (span 1 3 ∷ []) ∷ []
row_81 = refl

row_82 : seen (codes "$\\\n\r\n$(a)") ≡ Seen (codes "$\\\n\r\n") CrLf (false ∷ false ∷ false ∷ true ∷ []) (codes "$ ") (codes "$" ∷ codes "\\\n" ∷ []) (span 0 2 ∷ []) (span 0 2 ∷ []) ∷ Seen (codes "$(a)") None (false ∷ false ∷ false ∷ true ∷ []) (codes "$(a)") (codes "$" ∷ codes "(" ∷ codes "a" ∷ codes ")" ∷ []) (span 0 4 ∷ []) (span 0 4 ∷ []) ∷ []
row_82 = refl

row_83 : seen (codes "{\r$\\\\") ≡ Seen (codes "{\r$\\\\") None (false ∷ false ∷ true ∷ false ∷ []) (codes "{\r$\\\\") (codes "{" ∷ codes "\r" ∷ codes "$" ∷ codes "\\" ∷ codes "\\" ∷ []) (span 0 1 ∷ span 1 2 ∷ span 2 4 ∷ span 4 5 ∷ []) (span 0 5 ∷ []) ∷ []
row_83 = refl

row_84 : seen (codes " \r\\\n$ \\\n ( }$(a)\t") ≡ Seen (codes " \r\\\n$ \\\n ( }$(a)\t") None (false ∷ false ∷ true ∷ true ∷ []) (codes " \r $ ( }$(a)\t") (codes " " ∷ codes "\r" ∷ codes "\\\n" ∷ codes "$" ∷ codes " \\\n " ∷ codes "(" ∷ codes " " ∷ codes "}" ∷ codes "$" ∷ codes "(" ∷ codes "a" ∷ codes ")" ∷ codes "\t" ∷ []) (span 0 1 ∷ span 1 2 ∷ span 2 3 ∷ span 3 5 ∷ span 5 6 ∷ span 6 7 ∷ span 7 8 ∷ span 8 12 ∷ span 12 13 ∷ []) (span 1 2 ∷ span 3 6 ∷ span 7 12 ∷ []) ∷ []
row_84 = refl

row_85 : seen (codes "$a") ≡ Seen (codes "$a") None (false ∷ false ∷ false ∷ true ∷ []) (codes "$a") (codes "$" ∷ codes "a" ∷ []) (span 0 2 ∷ []) (span 0 2 ∷ []) ∷ []
row_85 = refl

row_86 : seen (codes "\0a$\\\n\\\n\n a\\\\") ≡ Seen (codes "\0a$\\\n\\\n\n") Lf (false ∷ false ∷ true ∷ true ∷ []) (codes "\0a$ ") (codes "\0" ∷ codes "a" ∷ codes "$" ∷ codes "\\\n\\\n" ∷ []) (span 0 1 ∷ span 1 2 ∷ span 2 4 ∷ []) (span 0 4 ∷ []) ∷ Seen (codes " a\\\\") None (false ∷ false ∷ false ∷ true ∷ []) (codes " a\\\\") (codes " " ∷ codes "a" ∷ codes "\\" ∷ codes "\\" ∷ []) (span 0 1 ∷ span 1 2 ∷ span 2 4 ∷ []) (span 1 4 ∷ []) ∷ []
row_86 = refl

row_87 : seen (codes "\\\\\r #a\n)a$\\\n$") ≡ Seen (codes "\\\\\r #a\n") Lf (false ∷ false ∷ true ∷ true ∷ []) (codes "\\\\\r #a") (codes "\\" ∷ codes "\\" ∷ codes "\r" ∷ codes " " ∷ codes "#" ∷ codes "a" ∷ []) (span 0 2 ∷ span 2 3 ∷ span 3 4 ∷ span 4 5 ∷ span 5 6 ∷ []) (span 0 3 ∷ span 4 6 ∷ []) ∷ Seen (codes ")a$\\\n$") None (false ∷ false ∷ false ∷ false ∷ []) (codes ")a$ $") (codes ")" ∷ codes "a" ∷ codes "$" ∷ codes "\\\n" ∷ codes "$" ∷ []) (span 0 1 ∷ span 1 2 ∷ span 2 4 ∷ span 4 5 ∷ []) (span 0 5 ∷ []) ∷ []
row_87 = refl

row_88 : seen (codes "  ") ≡ Seen (codes "  ") None (false ∷ false ∷ false ∷ true ∷ []) (codes "  ") (codes " " ∷ codes " " ∷ []) (span 0 1 ∷ span 1 2 ∷ []) [] ∷ []
row_88 = refl

row_89 : seen (codes "\\\n} )") ≡ Seen (codes "\\\n} )") None (false ∷ false ∷ false ∷ true ∷ []) (codes " } )") (codes "\\\n" ∷ codes "}" ∷ codes " " ∷ codes ")" ∷ []) (span 0 1 ∷ span 1 2 ∷ span 2 3 ∷ span 3 4 ∷ []) (span 1 2 ∷ span 3 4 ∷ []) ∷ []
row_89 = refl

row_90 : seen (codes "$\\\r\n$a \\\\($)${") ≡ Seen (codes "$\\\r\n$a \\\\($)${") None (false ∷ false ∷ false ∷ false ∷ []) (codes "$ $a \\\\($)${") (codes "$" ∷ codes "\\\r\n" ∷ codes "$" ∷ codes "a" ∷ codes " " ∷ codes "\\" ∷ codes "\\" ∷ codes "(" ∷ codes "$" ∷ codes ")" ∷ codes "$" ∷ codes "{" ∷ []) (span 0 2 ∷ span 2 4 ∷ span 4 5 ∷ span 5 7 ∷ span 7 8 ∷ span 8 10 ∷ span 10 12 ∷ []) (span 0 4 ∷ span 5 12 ∷ []) ∷ []
row_90 = refl

row_91 : seen (codes "\n (\t#{") ≡ Seen (codes "\n") Lf (false ∷ false ∷ false ∷ true ∷ []) [] [] [] [] ∷ Seen (codes " (\t#{") None (false ∷ false ∷ false ∷ true ∷ []) (codes " (\t#{") (codes " " ∷ codes "(" ∷ codes "\t" ∷ codes "#" ∷ codes "{" ∷ []) (span 0 1 ∷ span 1 2 ∷ span 2 3 ∷ span 3 4 ∷ span 4 5 ∷ []) (span 1 2 ∷ span 3 5 ∷ []) ∷ []
row_91 = refl

row_92 : seen (codes "$(a)\\$") ≡ Seen (codes "$(a)\\$") None (false ∷ false ∷ false ∷ false ∷ []) (codes "$(a)\\$") (codes "$" ∷ codes "(" ∷ codes "a" ∷ codes ")" ∷ codes "\\" ∷ codes "$" ∷ []) (span 0 4 ∷ span 4 5 ∷ span 5 6 ∷ []) (span 0 6 ∷ []) ∷ []
row_92 = refl

row_93 : seen (codes "\r}$\\\\a)\t") ≡ Seen (codes "\r}$\\\\a)\t") None (false ∷ false ∷ true ∷ true ∷ []) (codes "\r}$\\\\a)\t") (codes "\r" ∷ codes "}" ∷ codes "$" ∷ codes "\\" ∷ codes "\\" ∷ codes "a" ∷ codes ")" ∷ codes "\t" ∷ []) (span 0 1 ∷ span 1 2 ∷ span 2 4 ∷ span 4 6 ∷ span 6 7 ∷ span 7 8 ∷ []) (span 0 7 ∷ []) ∷ []
row_93 = refl

row_94 : seen (codes ")") ≡ Seen (codes ")") None (false ∷ false ∷ false ∷ true ∷ []) (codes ")") (codes ")" ∷ []) (span 0 1 ∷ []) (span 0 1 ∷ []) ∷ []
row_94 = refl

row_95 : seen (codes "$)$\\\n$\\\n\n\\\n") ≡ Seen (codes "$)$\\\n$\\\n\n") Lf (false ∷ false ∷ false ∷ true ∷ []) (codes "$)$ $ ") (codes "$" ∷ codes ")" ∷ codes "$" ∷ codes "\\\n" ∷ codes "$" ∷ codes "\\\n" ∷ []) (span 0 2 ∷ span 2 4 ∷ span 4 6 ∷ []) (span 0 6 ∷ []) ∷ Seen (codes "\\\n") Lf (true ∷ false ∷ false ∷ false ∷ []) (codes "\\") (codes "\\" ∷ []) (span 0 1 ∷ []) (span 0 1 ∷ []) ∷ []
row_95 = refl

row_96 : seen (codes "\ra\\\\\\\n\\\n\0\\\\\n$\\\n\\\n") ≡ Seen (codes "\ra\\\\\\\n\\\n\0\\\\\n") Lf (false ∷ true ∷ true ∷ true ∷ []) (codes "\ra\\\\ \0\\\\") (codes "\r" ∷ codes "a" ∷ codes "\\" ∷ codes "\\" ∷ codes "\\\n\\\n" ∷ codes "\0" ∷ codes "\\" ∷ codes "\\" ∷ []) (span 0 1 ∷ span 1 2 ∷ span 2 4 ∷ span 4 5 ∷ span 5 6 ∷ span 6 8 ∷ []) (span 0 4 ∷ span 5 8 ∷ []) ∷ Seen (codes "$\\\n\\\n") Lf (true ∷ false ∷ false ∷ false ∷ []) (codes "$ \\") (codes "$" ∷ codes "\\\n" ∷ codes "\\" ∷ []) (span 0 2 ∷ span 2 3 ∷ []) (span 0 3 ∷ []) ∷ []
row_96 = refl

row_97 : seen (codes "}") ≡ Seen (codes "}") None (false ∷ false ∷ false ∷ true ∷ []) (codes "}") (codes "}" ∷ []) (span 0 1 ∷ []) (span 0 1 ∷ []) ∷ []
row_97 = refl

row_98 : seen (codes "\n \\\n  a\r\0$(a)(") ≡ Seen (codes "\n") Lf (false ∷ false ∷ false ∷ true ∷ []) [] [] [] [] ∷ Seen (codes " \\\n  a\r\0$(a)(") None (false ∷ false ∷ true ∷ true ∷ []) (codes " a\r\0$(a)(") (codes " \\\n  " ∷ codes "a" ∷ codes "\r" ∷ codes "\0" ∷ codes "$" ∷ codes "(" ∷ codes "a" ∷ codes ")" ∷ codes "(" ∷ []) (span 0 1 ∷ span 1 2 ∷ span 2 3 ∷ span 3 4 ∷ span 4 8 ∷ span 8 9 ∷ []) (span 1 9 ∷ []) ∷ []
row_98 = refl

row_99 : seen (codes " {$a${${{") ≡ Seen (codes " {$a${${{") None (false ∷ false ∷ false ∷ false ∷ []) (codes " {$a${${{") (codes " " ∷ codes "{" ∷ codes "$" ∷ codes "a" ∷ codes "$" ∷ codes "{" ∷ codes "$" ∷ codes "{" ∷ codes "{" ∷ []) (span 0 1 ∷ span 1 2 ∷ span 2 4 ∷ span 4 9 ∷ []) (span 1 9 ∷ []) ∷ []
row_99 = refl

row_100 : seen (codes "${\\\r\n\0\0)\0(\\\r\n\\\n") ≡ Seen (codes "${\\\r\n\0\0)\0(\\\r\n\\\n") Lf (true ∷ false ∷ true ∷ false ∷ []) (codes "${ \0\0)\0( \\") (codes "$" ∷ codes "{" ∷ codes "\\\r\n" ∷ codes "\0" ∷ codes "\0" ∷ codes ")" ∷ codes "\0" ∷ codes "(" ∷ codes "\\\r\n" ∷ codes "\\" ∷ []) (span 0 10 ∷ []) (span 0 10 ∷ []) ∷ []
row_100 = refl

row_101 : seen (codes "\t") ≡ Seen (codes "\t") None (false ∷ false ∷ false ∷ true ∷ []) (codes "\t") (codes "\t" ∷ []) (span 0 1 ∷ []) [] ∷ []
row_101 = refl

row_102 : seen (codes "#\0)$\t$ \\\n ") ≡ Seen (codes "#\0)$\t$ \\\n ") None (false ∷ false ∷ true ∷ true ∷ []) (codes "#\0)$\t$ ") (codes "#" ∷ codes "\0" ∷ codes ")" ∷ codes "$" ∷ codes "\t" ∷ codes "$" ∷ codes " \\\n " ∷ []) (span 0 1 ∷ span 1 2 ∷ span 2 3 ∷ span 3 5 ∷ span 5 7 ∷ []) (span 0 7 ∷ []) ∷ []
row_102 = refl

row_103 : seen (codes "}$(\\\\\n\\\r\n\n\\") ≡ Seen (codes "}$(\\\\\n") Lf (false ∷ false ∷ false ∷ false ∷ []) (codes "}$(\\\\") (codes "}" ∷ codes "$" ∷ codes "(" ∷ codes "\\" ∷ codes "\\" ∷ []) (span 0 1 ∷ span 1 5 ∷ []) (span 0 5 ∷ []) ∷ Seen (codes "\\\r\n\n") Lf (false ∷ false ∷ false ∷ true ∷ []) (codes " ") (codes "\\\r\n" ∷ []) (span 0 1 ∷ []) [] ∷ Seen (codes "\\") None (true ∷ false ∷ false ∷ false ∷ []) (codes "\\") (codes "\\" ∷ []) (span 0 1 ∷ []) (span 0 1 ∷ []) ∷ []
row_103 = refl

row_104 : seen (codes " ") ≡ Seen (codes " ") None (false ∷ false ∷ false ∷ true ∷ []) (codes " ") (codes " " ∷ []) (span 0 1 ∷ []) [] ∷ []
row_104 = refl

row_105 : seen (codes "a\\a") ≡ Seen (codes "a\\a") None (false ∷ false ∷ false ∷ true ∷ []) (codes "a\\a") (codes "a" ∷ codes "\\" ∷ codes "a" ∷ []) (span 0 1 ∷ span 1 3 ∷ []) (span 0 3 ∷ []) ∷ []
row_105 = refl

row_106 : seen (codes "\r\n\t\r\n\t\r$(\\#\n)") ≡ Seen (codes "\r\n") CrLf (false ∷ false ∷ false ∷ true ∷ []) [] [] [] [] ∷ Seen (codes "\t\r\n") CrLf (false ∷ false ∷ false ∷ true ∷ []) (codes "\t") (codes "\t" ∷ []) (span 0 1 ∷ []) [] ∷ Seen (codes "\t\r$(\\#\n") Lf (false ∷ false ∷ true ∷ false ∷ []) (codes "\t\r$(\\#") (codes "\t" ∷ codes "\r" ∷ codes "$" ∷ codes "(" ∷ codes "\\" ∷ codes "#" ∷ []) (span 0 1 ∷ span 1 2 ∷ span 2 6 ∷ []) (span 1 6 ∷ []) ∷ Seen (codes ")") None (false ∷ false ∷ false ∷ true ∷ []) (codes ")") (codes ")" ∷ []) (span 0 1 ∷ []) (span 0 1 ∷ []) ∷ []
row_106 = refl

row_107 : seen (codes " \\\n \0\n\n\n") ≡ Seen (codes " \\\n \0\n") Lf (false ∷ false ∷ true ∷ true ∷ []) (codes " \0") (codes " \\\n " ∷ codes "\0" ∷ []) (span 0 1 ∷ span 1 2 ∷ []) (span 1 2 ∷ []) ∷ Seen (codes "\n") Lf (false ∷ false ∷ false ∷ true ∷ []) [] [] [] [] ∷ Seen (codes "\n") Lf (false ∷ false ∷ false ∷ true ∷ []) [] [] [] [] ∷ []
row_107 = refl

row_108 : seen (codes "$\\\n") ≡ Seen (codes "$\\\n") Lf (true ∷ false ∷ false ∷ true ∷ []) (codes "$\\") (codes "$" ∷ codes "\\" ∷ []) (span 0 2 ∷ []) (span 0 2 ∷ []) ∷ []
row_108 = refl

row_109 : seen (codes "\n$\\\n \\\\\n\n \\\n (") ≡ Seen (codes "\n") Lf (false ∷ false ∷ false ∷ true ∷ []) [] [] [] [] ∷ Seen (codes "$\\\n \\\\\n") Lf (false ∷ false ∷ false ∷ true ∷ []) (codes "$ \\\\") (codes "$" ∷ codes "\\\n " ∷ codes "\\" ∷ codes "\\" ∷ []) (span 0 2 ∷ span 2 4 ∷ []) (span 0 4 ∷ []) ∷ Seen (codes "\n") Lf (false ∷ false ∷ false ∷ true ∷ []) [] [] [] [] ∷ Seen (codes " \\\n (") None (false ∷ false ∷ false ∷ true ∷ []) (codes " (") (codes " \\\n " ∷ codes "(" ∷ []) (span 0 1 ∷ span 1 2 ∷ []) (span 1 2 ∷ []) ∷ []
row_109 = refl

row_110 : seen (codes " ${#\\\\a \\\n }#") ≡ Seen (codes " ${#\\\\a \\\n }#") None (false ∷ false ∷ false ∷ true ∷ []) (codes " ${#\\\\a }#") (codes " " ∷ codes "$" ∷ codes "{" ∷ codes "#" ∷ codes "\\" ∷ codes "\\" ∷ codes "a" ∷ codes " \\\n " ∷ codes "}" ∷ codes "#" ∷ []) (span 0 1 ∷ span 1 9 ∷ span 9 10 ∷ []) (span 1 10 ∷ []) ∷ []
row_110 = refl

row_111 : seen (codes "$(a)$(a)#\t \\\n$( ") ≡ Seen (codes "$(a)$(a)#\t \\\n$( ") None (false ∷ false ∷ false ∷ false ∷ []) (codes "$(a)$(a)# $( ") (codes "$" ∷ codes "(" ∷ codes "a" ∷ codes ")" ∷ codes "$" ∷ codes "(" ∷ codes "a" ∷ codes ")" ∷ codes "#" ∷ codes "\t \\\n" ∷ codes "$" ∷ codes "(" ∷ codes " " ∷ []) (span 0 4 ∷ span 4 8 ∷ span 8 9 ∷ span 9 10 ∷ span 10 13 ∷ []) (span 0 9 ∷ span 10 13 ∷ []) ∷ []
row_111 = refl

row_112 : seen (codes "$\\\n{${\r#\\\\${ \\#\\\r\n\n") ≡ Seen (codes "$\\\n{${\r#\\\\${ \\#\\\r\n\n") Lf (false ∷ false ∷ true ∷ false ∷ []) (codes "$ {${\r#\\\\${ \\# ") (codes "$" ∷ codes "\\\n" ∷ codes "{" ∷ codes "$" ∷ codes "{" ∷ codes "\r" ∷ codes "#" ∷ codes "\\" ∷ codes "\\" ∷ codes "$" ∷ codes "{" ∷ codes " " ∷ codes "\\" ∷ codes "#" ∷ codes "\\\r\n" ∷ []) (span 0 2 ∷ span 2 3 ∷ span 3 15 ∷ []) (span 0 15 ∷ []) ∷ []
row_112 = refl

row_113 : seen (codes "\0 \\\n   \\\n \t\r") ≡ Seen (codes "\0 \\\n   \\\n \t\r") None (true ∷ false ∷ true ∷ true ∷ []) (codes "\0 \r") (codes "\0" ∷ codes " \\\n   \\\n \t" ∷ codes "\r" ∷ []) (span 0 1 ∷ span 1 2 ∷ span 2 3 ∷ []) (span 0 1 ∷ span 2 3 ∷ []) ∷ []
row_113 = refl

row_114 : seen (codes " a\\){\t#") ≡ Seen (codes " a\\){\t#") None (false ∷ false ∷ false ∷ true ∷ []) (codes " a\\){\t#") (codes " " ∷ codes "a" ∷ codes "\\" ∷ codes ")" ∷ codes "{" ∷ codes "\t" ∷ codes "#" ∷ []) (span 0 1 ∷ span 1 2 ∷ span 2 4 ∷ span 4 5 ∷ span 5 6 ∷ span 6 7 ∷ []) (span 1 5 ∷ span 6 7 ∷ []) ∷ []
row_114 = refl

row_115 : seen (codes "\\{$a(\\\\\n$\\\n(\\ \r\\\\\n\\") ≡ Seen (codes "\\{$a(\\\\\n") Lf (false ∷ false ∷ false ∷ true ∷ []) (codes "\\{$a(\\\\") (codes "\\" ∷ codes "{" ∷ codes "$" ∷ codes "a" ∷ codes "(" ∷ codes "\\" ∷ codes "\\" ∷ []) (span 0 2 ∷ span 2 4 ∷ span 4 5 ∷ span 5 7 ∷ []) (span 0 7 ∷ []) ∷ Seen (codes "$\\\n(\\ \r\\\\\n") Lf (false ∷ false ∷ true ∷ true ∷ []) (codes "$ (\\ \r\\\\") (codes "$" ∷ codes "\\\n" ∷ codes "(" ∷ codes "\\" ∷ codes " " ∷ codes "\r" ∷ codes "\\" ∷ codes "\\" ∷ []) (span 0 2 ∷ span 2 3 ∷ span 3 5 ∷ span 5 6 ∷ span 6 8 ∷ []) (span 0 8 ∷ []) ∷ Seen (codes "\\") None (true ∷ false ∷ false ∷ false ∷ []) (codes "\\") (codes "\\" ∷ []) (span 0 1 ∷ []) (span 0 1 ∷ []) ∷ []
row_115 = refl

row_116 : seen (codes "\n") ≡ Seen (codes "\n") Lf (false ∷ false ∷ false ∷ true ∷ []) [] [] [] [] ∷ []
row_116 = refl

row_117 : seen (codes "$\\\n$\\\n( \\\n \r$(\\\na)a\\\\\n") ≡ Seen (codes "$\\\n$\\\n( \\\n \r$(\\\na)a\\\\\n") Lf (false ∷ false ∷ true ∷ true ∷ []) (codes "$ $ ( \r$( a)a\\\\") (codes "$" ∷ codes "\\\n" ∷ codes "$" ∷ codes "\\\n" ∷ codes "(" ∷ codes " \\\n " ∷ codes "\r" ∷ codes "$" ∷ codes "(" ∷ codes "\\\n" ∷ codes "a" ∷ codes ")" ∷ codes "a" ∷ codes "\\" ∷ codes "\\" ∷ []) (span 0 2 ∷ span 2 4 ∷ span 4 5 ∷ span 5 6 ∷ span 6 7 ∷ span 7 12 ∷ span 12 13 ∷ span 13 15 ∷ []) (span 0 5 ∷ span 6 15 ∷ []) ∷ []
row_117 = refl

row_118 : seen (codes "$\\\n") ≡ Seen (codes "$\\\n") Lf (true ∷ false ∷ false ∷ true ∷ []) (codes "$\\") (codes "$" ∷ codes "\\" ∷ []) (span 0 2 ∷ []) (span 0 2 ∷ []) ∷ []
row_118 = refl

row_119 : seen (codes "\\\r\n") ≡ Seen (codes "\\\r\n") CrLf (true ∷ false ∷ false ∷ false ∷ []) (codes "\\") (codes "\\" ∷ []) (span 0 1 ∷ []) (span 0 1 ∷ []) ∷ []
row_119 = refl

row_120 : seen (codes "\\($($\\\n\t\\ \\\n $(#") ≡ Seen (codes "\\($($\\\n\t\\ \\\n $(#") None (false ∷ true ∷ false ∷ false ∷ []) (codes "\\($($ \\ $(#") (codes "\\" ∷ codes "(" ∷ codes "$" ∷ codes "(" ∷ codes "$" ∷ codes "\\\n\t" ∷ codes "\\" ∷ codes " \\\n " ∷ codes "$" ∷ codes "(" ∷ codes "#" ∷ []) (span 0 2 ∷ span 2 11 ∷ []) (span 0 11 ∷ []) ∷ []
row_120 = refl

row_121 : seen (codes " \\\naa\n#\\") ≡ Seen (codes " \\\naa\n") Lf (false ∷ false ∷ false ∷ true ∷ []) (codes " aa") (codes " \\\n" ∷ codes "a" ∷ codes "a" ∷ []) (span 0 1 ∷ span 1 2 ∷ span 2 3 ∷ []) (span 1 3 ∷ []) ∷ Seen (codes "#\\") None (true ∷ false ∷ false ∷ false ∷ []) (codes "#\\") (codes "#" ∷ codes "\\" ∷ []) (span 0 1 ∷ span 1 2 ∷ []) (span 0 2 ∷ []) ∷ []
row_121 = refl

row_122 : seen (codes "\ra\0\n#\n$\r\t{\\") ≡ Seen (codes "\ra\0\n") Lf (false ∷ false ∷ true ∷ true ∷ []) (codes "\ra\0") (codes "\r" ∷ codes "a" ∷ codes "\0" ∷ []) (span 0 1 ∷ span 1 2 ∷ span 2 3 ∷ []) (span 0 3 ∷ []) ∷ Seen (codes "#\n") Lf (false ∷ false ∷ false ∷ true ∷ []) (codes "#") (codes "#" ∷ []) (span 0 1 ∷ []) (span 0 1 ∷ []) ∷ Seen (codes "$\r\t{\\") None (true ∷ false ∷ true ∷ false ∷ []) (codes "$\r\t{\\") (codes "$" ∷ codes "\r" ∷ codes "\t" ∷ codes "{" ∷ codes "\\" ∷ []) (span 0 2 ∷ span 2 3 ∷ span 3 4 ∷ span 4 5 ∷ []) (span 0 2 ∷ span 3 5 ∷ []) ∷ []
row_122 = refl

row_123 : seen (codes "\n \\\\\n\\\\\na$(a)\\\r\n\\\0}") ≡ Seen (codes "\n") Lf (false ∷ false ∷ false ∷ true ∷ []) [] [] [] [] ∷ Seen (codes " \\\\\n") Lf (false ∷ false ∷ false ∷ true ∷ []) (codes " \\\\") (codes " " ∷ codes "\\" ∷ codes "\\" ∷ []) (span 0 1 ∷ span 1 3 ∷ []) (span 1 3 ∷ []) ∷ Seen (codes "\\\\\n") Lf (false ∷ false ∷ false ∷ true ∷ []) (codes "\\\\") (codes "\\" ∷ codes "\\" ∷ []) (span 0 2 ∷ []) (span 0 2 ∷ []) ∷ Seen (codes "a$(a)\\\r\n\\\0}") None (false ∷ false ∷ true ∷ true ∷ []) (codes "a$(a) \\\0}") (codes "a" ∷ codes "$" ∷ codes "(" ∷ codes "a" ∷ codes ")" ∷ codes "\\\r\n" ∷ codes "\\" ∷ codes "\0" ∷ codes "}" ∷ []) (span 0 1 ∷ span 1 5 ∷ span 5 6 ∷ span 6 8 ∷ span 8 9 ∷ []) (span 0 5 ∷ span 6 9 ∷ []) ∷ []
row_123 = refl

row_124 : seen (codes "${\\\\\r\na$(a\\") ≡ Seen (codes "${\\\\\r\n") CrLf (false ∷ false ∷ false ∷ false ∷ []) (codes "${\\\\") (codes "$" ∷ codes "{" ∷ codes "\\" ∷ codes "\\" ∷ []) (span 0 4 ∷ []) (span 0 4 ∷ []) ∷ Seen (codes "a$(a\\") None (true ∷ false ∷ false ∷ false ∷ []) (codes "a$(a\\") (codes "a" ∷ codes "$" ∷ codes "(" ∷ codes "a" ∷ codes "\\" ∷ []) (span 0 1 ∷ span 1 5 ∷ []) (span 0 5 ∷ []) ∷ []
row_124 = refl

row_125 : seen (codes "$\ra}\r\\\na\r\n)\t") ≡ Seen (codes "$\ra}\r\\\na\r\n") CrLf (false ∷ false ∷ true ∷ true ∷ []) (codes "$\ra}\r a") (codes "$" ∷ codes "\r" ∷ codes "a" ∷ codes "}" ∷ codes "\r" ∷ codes "\\\n" ∷ codes "a" ∷ []) (span 0 2 ∷ span 2 3 ∷ span 3 4 ∷ span 4 5 ∷ span 5 6 ∷ span 6 7 ∷ []) (span 0 5 ∷ span 6 7 ∷ []) ∷ Seen (codes ")\t") None (false ∷ false ∷ false ∷ true ∷ []) (codes ")\t") (codes ")" ∷ codes "\t" ∷ []) (span 0 1 ∷ span 1 2 ∷ []) (span 0 1 ∷ []) ∷ []
row_125 = refl

row_126 : seen (codes "} $($") ≡ Seen (codes "} $($") None (false ∷ false ∷ false ∷ false ∷ []) (codes "} $($") (codes "}" ∷ codes " " ∷ codes "$" ∷ codes "(" ∷ codes "$" ∷ []) (span 0 1 ∷ span 1 2 ∷ span 2 5 ∷ []) (span 0 1 ∷ span 2 5 ∷ []) ∷ []
row_126 = refl

row_127 : seen (codes "${ \ra$({}a\r$()") ≡ Seen (codes "${ \ra$({}a\r$()") None (false ∷ false ∷ true ∷ false ∷ []) (codes "${ \ra$({}a\r$()") (codes "$" ∷ codes "{" ∷ codes " " ∷ codes "\r" ∷ codes "a" ∷ codes "$" ∷ codes "(" ∷ codes "{" ∷ codes "}" ∷ codes "a" ∷ codes "\r" ∷ codes "$" ∷ codes "(" ∷ codes ")" ∷ []) (span 0 14 ∷ []) (span 0 14 ∷ []) ∷ []
row_127 = refl

row_128 : seen (codes "$\\\n") ≡ Seen (codes "$\\\n") Lf (true ∷ false ∷ false ∷ true ∷ []) (codes "$\\") (codes "$" ∷ codes "\\" ∷ []) (span 0 2 ∷ []) (span 0 2 ∷ []) ∷ []
row_128 = refl

row_129 : seen (codes "$\\\\\\\n\\\\\n${\\\0") ≡ Seen (codes "$\\\\\\\n\\\\\n") Lf (false ∷ true ∷ false ∷ true ∷ []) (codes "$\\\\ \\\\") (codes "$" ∷ codes "\\" ∷ codes "\\" ∷ codes "\\\n" ∷ codes "\\" ∷ codes "\\" ∷ []) (span 0 2 ∷ span 2 4 ∷ span 4 6 ∷ []) (span 0 6 ∷ []) ∷ Seen (codes "${\\\0") None (false ∷ false ∷ true ∷ false ∷ []) (codes "${\\\0") (codes "$" ∷ codes "{" ∷ codes "\\" ∷ codes "\0" ∷ []) (span 0 4 ∷ []) (span 0 4 ∷ []) ∷ []
row_129 = refl

row_130 : seen (codes "{\0)$(a)") ≡ Seen (codes "{\0)$(a)") None (false ∷ false ∷ true ∷ true ∷ []) (codes "{\0)$(a)") (codes "{" ∷ codes "\0" ∷ codes ")" ∷ codes "$" ∷ codes "(" ∷ codes "a" ∷ codes ")" ∷ []) (span 0 1 ∷ span 1 2 ∷ span 2 3 ∷ span 3 7 ∷ []) (span 0 7 ∷ []) ∷ []
row_130 = refl

row_131 : seen (codes "$\\\n") ≡ Seen (codes "$\\\n") Lf (true ∷ false ∷ false ∷ true ∷ []) (codes "$\\") (codes "$" ∷ codes "\\" ∷ []) (span 0 2 ∷ []) (span 0 2 ∷ []) ∷ []
row_131 = refl

row_132 : seen (codes " \\ \\\n \\($(\\${$\\\\\n\\\n ") ≡ Seen (codes " \\ \\\n \\($(\\${$\\\\\n") Lf (false ∷ true ∷ false ∷ false ∷ []) (codes " \\ \\($(\\${$\\\\") (codes " " ∷ codes "\\" ∷ codes " \\\n " ∷ codes "\\" ∷ codes "(" ∷ codes "$" ∷ codes "(" ∷ codes "\\" ∷ codes "$" ∷ codes "{" ∷ codes "$" ∷ codes "\\" ∷ codes "\\" ∷ []) (span 0 1 ∷ span 1 3 ∷ span 3 5 ∷ span 5 13 ∷ []) (span 1 13 ∷ []) ∷ Seen (codes "\\\n ") None (false ∷ false ∷ false ∷ true ∷ []) (codes " ") (codes "\\\n " ∷ []) (span 0 1 ∷ []) [] ∷ []
row_132 = refl

row_133 : seen (codes "\n") ≡ Seen (codes "\n") Lf (false ∷ false ∷ false ∷ true ∷ []) [] [] [] [] ∷ []
row_133 = refl

row_134 : seen (codes "$\r\n\\\r\n\r\n") ≡ Seen (codes "$\r\n") CrLf (false ∷ false ∷ false ∷ false ∷ []) (codes "$") (codes "$" ∷ []) (span 0 1 ∷ []) (span 0 1 ∷ []) ∷ Seen (codes "\\\r\n\r\n") CrLf (false ∷ false ∷ false ∷ true ∷ []) (codes " ") (codes "\\\r\n" ∷ []) (span 0 1 ∷ []) [] ∷ []
row_134 = refl

row_135 : seen (codes "\r){ \n") ≡ Seen (codes "\r){ \n") Lf (false ∷ false ∷ true ∷ true ∷ []) (codes "\r){ ") (codes "\r" ∷ codes ")" ∷ codes "{" ∷ codes " " ∷ []) (span 0 1 ∷ span 1 2 ∷ span 2 3 ∷ span 3 4 ∷ []) (span 0 3 ∷ []) ∷ []
row_135 = refl

row_136 : seen (codes "a\t\r\n\n$\\$(a)\0   \t\r") ≡ Seen (codes "a\t\r\n") CrLf (false ∷ false ∷ false ∷ true ∷ []) (codes "a\t") (codes "a" ∷ codes "\t" ∷ []) (span 0 1 ∷ span 1 2 ∷ []) (span 0 1 ∷ []) ∷ Seen (codes "\n") Lf (false ∷ false ∷ false ∷ true ∷ []) [] [] [] [] ∷ Seen (codes "$\\$(a)\0   \t\r") None (true ∷ false ∷ true ∷ true ∷ []) (codes "$\\$(a)\0   \t\r") (codes "$" ∷ codes "\\" ∷ codes "$" ∷ codes "(" ∷ codes "a" ∷ codes ")" ∷ codes "\0" ∷ codes " " ∷ codes " " ∷ codes " " ∷ codes "\t" ∷ codes "\r" ∷ []) (span 0 2 ∷ span 2 6 ∷ span 6 7 ∷ span 7 8 ∷ span 8 9 ∷ span 9 10 ∷ span 10 11 ∷ span 11 12 ∷ []) (span 0 7 ∷ span 11 12 ∷ []) ∷ []
row_136 = refl

row_137 : seen (codes "}") ≡ Seen (codes "}") None (false ∷ false ∷ false ∷ true ∷ []) (codes "}") (codes "}" ∷ []) (span 0 1 ∷ []) (span 0 1 ∷ []) ∷ []
row_137 = refl

row_138 : seen (codes "$$ \\\n ") ≡ Seen (codes "$$ \\\n ") None (false ∷ false ∷ false ∷ true ∷ []) (codes "$$ ") (codes "$" ∷ codes "$" ∷ codes " \\\n " ∷ []) (span 0 2 ∷ span 2 3 ∷ []) (span 0 2 ∷ []) ∷ []
row_138 = refl

row_139 : seen (codes "$(${\\\\\n") ≡ Seen (codes "$(${\\\\\n") Lf (false ∷ false ∷ false ∷ false ∷ []) (codes "$(${\\\\") (codes "$" ∷ codes "(" ∷ codes "$" ∷ codes "{" ∷ codes "\\" ∷ codes "\\" ∷ []) (span 0 6 ∷ []) (span 0 6 ∷ []) ∷ []
row_139 = refl

row_140 : seen (codes " \\\n \n$\\\n") ≡ Seen (codes " \\\n \n") Lf (false ∷ false ∷ false ∷ true ∷ []) (codes " ") (codes " \\\n " ∷ []) (span 0 1 ∷ []) [] ∷ Seen (codes "$\\\n") Lf (true ∷ false ∷ false ∷ true ∷ []) (codes "$\\") (codes "$" ∷ codes "\\" ∷ []) (span 0 2 ∷ []) (span 0 2 ∷ []) ∷ []
row_140 = refl

row_141 : seen (codes "\\\n(  \r \\$(a)$(") ≡ Seen (codes "\\\n(  \r \\$(a)$(") None (false ∷ false ∷ true ∷ false ∷ []) (codes " (  \r \\$(a)$(") (codes "\\\n" ∷ codes "(" ∷ codes " " ∷ codes " " ∷ codes "\r" ∷ codes " " ∷ codes "\\" ∷ codes "$" ∷ codes "(" ∷ codes "a" ∷ codes ")" ∷ codes "$" ∷ codes "(" ∷ []) (span 0 1 ∷ span 1 2 ∷ span 2 3 ∷ span 3 4 ∷ span 4 5 ∷ span 5 6 ∷ span 6 7 ∷ span 7 11 ∷ span 11 13 ∷ []) (span 1 2 ∷ span 4 5 ∷ span 6 13 ∷ []) ∷ []
row_141 = refl

row_142 : seen (codes "($(\t\\\n$(\\ \\\n $\\\n$\\\r\n") ≡ Seen (codes "($(\t\\\n$(\\ \\\n $\\\n$\\\r\n") CrLf (true ∷ true ∷ false ∷ false ∷ []) (codes "($( $(\\ $ $\\") (codes "(" ∷ codes "$" ∷ codes "(" ∷ codes "\t\\\n" ∷ codes "$" ∷ codes "(" ∷ codes "\\" ∷ codes " \\\n " ∷ codes "$" ∷ codes "\\\n" ∷ codes "$" ∷ codes "\\" ∷ []) (span 0 1 ∷ span 1 12 ∷ []) (span 0 12 ∷ []) ∷ []
row_142 = refl

row_143 : seen (codes "\r\0\0\n\n") ≡ Seen (codes "\r\0\0\n") Lf (false ∷ false ∷ true ∷ true ∷ []) (codes "\r\0\0") (codes "\r" ∷ codes "\0" ∷ codes "\0" ∷ []) (span 0 1 ∷ span 1 2 ∷ span 2 3 ∷ []) (span 0 3 ∷ []) ∷ Seen (codes "\n") Lf (false ∷ false ∷ false ∷ true ∷ []) [] [] [] [] ∷ []
row_143 = refl

row_144 : seen (codes " \\\r\n)") ≡ Seen (codes " \\\r\n)") None (false ∷ false ∷ false ∷ true ∷ []) (codes " )") (codes " \\\r\n" ∷ codes ")" ∷ []) (span 0 1 ∷ span 1 2 ∷ []) (span 1 2 ∷ []) ∷ []
row_144 = refl

row_145 : seen (codes "\r\n\\\\\n\\\\(\r\n$\\\\\\\n\\\n$\r") ≡ Seen (codes "\r\n") CrLf (false ∷ false ∷ false ∷ true ∷ []) [] [] [] [] ∷ Seen (codes "\\\\\n") Lf (false ∷ false ∷ false ∷ true ∷ []) (codes "\\\\") (codes "\\" ∷ codes "\\" ∷ []) (span 0 2 ∷ []) (span 0 2 ∷ []) ∷ Seen (codes "\\\\(\r\n") CrLf (false ∷ false ∷ false ∷ true ∷ []) (codes "\\\\(") (codes "\\" ∷ codes "\\" ∷ codes "(" ∷ []) (span 0 2 ∷ span 2 3 ∷ []) (span 0 3 ∷ []) ∷ Seen (codes "$\\\\\\\n\\\n$\r") None (true ∷ true ∷ true ∷ true ∷ []) (codes "$\\\\ $\r") (codes "$" ∷ codes "\\" ∷ codes "\\" ∷ codes "\\\n\\\n" ∷ codes "$" ∷ codes "\r" ∷ []) (span 0 2 ∷ span 2 4 ∷ span 4 6 ∷ []) (span 0 6 ∷ []) ∷ []
row_145 = refl

row_146 : seen (codes "#}#${\\a") ≡ Seen (codes "#}#${\\a") None (false ∷ false ∷ false ∷ false ∷ []) (codes "#}#${\\a") (codes "#" ∷ codes "}" ∷ codes "#" ∷ codes "$" ∷ codes "{" ∷ codes "\\" ∷ codes "a" ∷ []) (span 0 1 ∷ span 1 2 ∷ span 2 3 ∷ span 3 7 ∷ []) (span 0 7 ∷ []) ∷ []
row_146 = refl

row_147 : seen (codes " \\\n ){\n\\a") ≡ Seen (codes " \\\n ){\n") Lf (false ∷ false ∷ false ∷ true ∷ []) (codes " ){") (codes " \\\n " ∷ codes ")" ∷ codes "{" ∷ []) (span 0 1 ∷ span 1 2 ∷ span 2 3 ∷ []) (span 1 3 ∷ []) ∷ Seen (codes "\\a") None (false ∷ false ∷ false ∷ true ∷ []) (codes "\\a") (codes "\\" ∷ codes "a" ∷ []) (span 0 2 ∷ []) (span 0 2 ∷ []) ∷ []
row_147 = refl

row_148 : seen (codes "$(a)a${#}") ≡ Seen (codes "$(a)a${#}") None (false ∷ false ∷ false ∷ true ∷ []) (codes "$(a)a${#}") (codes "$" ∷ codes "(" ∷ codes "a" ∷ codes ")" ∷ codes "a" ∷ codes "$" ∷ codes "{" ∷ codes "#" ∷ codes "}" ∷ []) (span 0 4 ∷ span 4 5 ∷ span 5 9 ∷ []) (span 0 9 ∷ []) ∷ []
row_148 = refl

row_149 : seen (codes "$ ${#(\n\\\\\n)\r\n\\\r\n") ≡ Seen (codes "$ ${#(\n") Lf (false ∷ false ∷ false ∷ false ∷ []) (codes "$ ${#(") (codes "$" ∷ codes " " ∷ codes "$" ∷ codes "{" ∷ codes "#" ∷ codes "(" ∷ []) (span 0 2 ∷ span 2 6 ∷ []) (span 0 6 ∷ []) ∷ Seen (codes "\\\\\n") Lf (false ∷ false ∷ false ∷ true ∷ []) (codes "\\\\") (codes "\\" ∷ codes "\\" ∷ []) (span 0 2 ∷ []) (span 0 2 ∷ []) ∷ Seen (codes ")\r\n") CrLf (false ∷ false ∷ false ∷ true ∷ []) (codes ")") (codes ")" ∷ []) (span 0 1 ∷ []) (span 0 1 ∷ []) ∷ Seen (codes "\\\r\n") CrLf (true ∷ false ∷ false ∷ false ∷ []) (codes "\\") (codes "\\" ∷ []) (span 0 1 ∷ []) (span 0 1 ∷ []) ∷ []
row_149 = refl

row_150 : seen (codes "\n") ≡ Seen (codes "\n") Lf (false ∷ false ∷ false ∷ true ∷ []) [] [] [] [] ∷ []
row_150 = refl

row_151 : seen (codes " $\n\t\0\n${${\n$\\\n") ≡ Seen (codes " $\n") Lf (false ∷ false ∷ false ∷ false ∷ []) (codes " $") (codes " " ∷ codes "$" ∷ []) (span 0 1 ∷ span 1 2 ∷ []) (span 1 2 ∷ []) ∷ Seen (codes "\t\0\n") Lf (false ∷ false ∷ true ∷ true ∷ []) (codes "\t\0") (codes "\t" ∷ codes "\0" ∷ []) (span 0 1 ∷ span 1 2 ∷ []) (span 1 2 ∷ []) ∷ Seen (codes "${${\n") Lf (false ∷ false ∷ false ∷ false ∷ []) (codes "${${") (codes "$" ∷ codes "{" ∷ codes "$" ∷ codes "{" ∷ []) (span 0 4 ∷ []) (span 0 4 ∷ []) ∷ Seen (codes "$\\\n") Lf (true ∷ false ∷ false ∷ true ∷ []) (codes "$\\") (codes "$" ∷ codes "\\" ∷ []) (span 0 2 ∷ []) (span 0 2 ∷ []) ∷ []
row_151 = refl

row_152 : seen (codes "\n  \\\n \\#") ≡ Seen (codes "\n") Lf (false ∷ false ∷ false ∷ true ∷ []) [] [] [] [] ∷ Seen (codes "  \\\n \\#") None (false ∷ false ∷ false ∷ true ∷ []) (codes " \\#") (codes "  \\\n " ∷ codes "\\" ∷ codes "#" ∷ []) (span 0 1 ∷ span 1 3 ∷ []) (span 1 3 ∷ []) ∷ []
row_152 = refl

row_153 : seen (codes "$\n\r\na \\\n \t") ≡ Seen (codes "$\n") Lf (false ∷ false ∷ false ∷ false ∷ []) (codes "$") (codes "$" ∷ []) (span 0 1 ∷ []) (span 0 1 ∷ []) ∷ Seen (codes "\r\n") CrLf (false ∷ false ∷ false ∷ true ∷ []) [] [] [] [] ∷ Seen (codes "a \\\n \t") None (false ∷ false ∷ false ∷ true ∷ []) (codes "a ") (codes "a" ∷ codes " \\\n \t" ∷ []) (span 0 1 ∷ span 1 2 ∷ []) (span 0 1 ∷ []) ∷ []
row_153 = refl

row_154 : seen (codes "$( \\\n $a)\n\r$") ≡ Seen (codes "$( \\\n $a)\n") Lf (false ∷ false ∷ false ∷ true ∷ []) (codes "$( $a)") (codes "$" ∷ codes "(" ∷ codes " \\\n " ∷ codes "$" ∷ codes "a" ∷ codes ")" ∷ []) (span 0 6 ∷ []) (span 0 6 ∷ []) ∷ Seen (codes "\r$") None (false ∷ false ∷ true ∷ false ∷ []) (codes "\r$") (codes "\r" ∷ codes "$" ∷ []) (span 0 1 ∷ span 1 2 ∷ []) (span 0 2 ∷ []) ∷ []
row_154 = refl

row_155 : seen (codes "}($ $(a)\ra\n\n") ≡ Seen (codes "}($ $(a)\ra\n") Lf (false ∷ false ∷ true ∷ true ∷ []) (codes "}($ $(a)\ra") (codes "}" ∷ codes "(" ∷ codes "$" ∷ codes " " ∷ codes "$" ∷ codes "(" ∷ codes "a" ∷ codes ")" ∷ codes "\r" ∷ codes "a" ∷ []) (span 0 1 ∷ span 1 2 ∷ span 2 4 ∷ span 4 8 ∷ span 8 9 ∷ span 9 10 ∷ []) (span 0 10 ∷ []) ∷ Seen (codes "\n") Lf (false ∷ false ∷ false ∷ true ∷ []) [] [] [] [] ∷ []
row_155 = refl

row_156 : seen (codes "\\\\\r\n$(a)$(a)\\\\\n#") ≡ Seen (codes "\\\\\r\n") CrLf (false ∷ false ∷ false ∷ true ∷ []) (codes "\\\\") (codes "\\" ∷ codes "\\" ∷ []) (span 0 2 ∷ []) (span 0 2 ∷ []) ∷ Seen (codes "$(a)$(a)\\\\\n") Lf (false ∷ false ∷ false ∷ true ∷ []) (codes "$(a)$(a)\\\\") (codes "$" ∷ codes "(" ∷ codes "a" ∷ codes ")" ∷ codes "$" ∷ codes "(" ∷ codes "a" ∷ codes ")" ∷ codes "\\" ∷ codes "\\" ∷ []) (span 0 4 ∷ span 4 8 ∷ span 8 10 ∷ []) (span 0 10 ∷ []) ∷ Seen (codes "#") None (false ∷ false ∷ false ∷ true ∷ []) (codes "#") (codes "#" ∷ []) (span 0 1 ∷ []) (span 0 1 ∷ []) ∷ []
row_156 = refl

row_157 : seen (codes "#") ≡ Seen (codes "#") None (false ∷ false ∷ false ∷ true ∷ []) (codes "#") (codes "#" ∷ []) (span 0 1 ∷ []) (span 0 1 ∷ []) ∷ []
row_157 = refl

row_158 : seen (codes "}${\\\n\\\0${\\") ≡ Seen (codes "}${\\\n\\\0${\\") None (true ∷ false ∷ true ∷ false ∷ []) (codes "}${ \\\0${\\") (codes "}" ∷ codes "$" ∷ codes "{" ∷ codes "\\\n" ∷ codes "\\" ∷ codes "\0" ∷ codes "$" ∷ codes "{" ∷ codes "\\" ∷ []) (span 0 1 ∷ span 1 9 ∷ []) (span 0 9 ∷ []) ∷ []
row_158 = refl

row_159 : seen (codes "\\\\\n\n\r$(a)\na\n") ≡ Seen (codes "\\\\\n") Lf (false ∷ false ∷ false ∷ true ∷ []) (codes "\\\\") (codes "\\" ∷ codes "\\" ∷ []) (span 0 2 ∷ []) (span 0 2 ∷ []) ∷ Seen (codes "\n") Lf (false ∷ false ∷ false ∷ true ∷ []) [] [] [] [] ∷ Seen (codes "\r$(a)\n") Lf (false ∷ false ∷ true ∷ true ∷ []) (codes "\r$(a)") (codes "\r" ∷ codes "$" ∷ codes "(" ∷ codes "a" ∷ codes ")" ∷ []) (span 0 1 ∷ span 1 5 ∷ []) (span 0 5 ∷ []) ∷ Seen (codes "a\n") Lf (false ∷ false ∷ false ∷ true ∷ []) (codes "a") (codes "a" ∷ []) (span 0 1 ∷ []) (span 0 1 ∷ []) ∷ []
row_159 = refl

row_160 : seen (codes " \\\n $)(a\\\n \\\n \0") ≡ Seen (codes " \\\n $)(a\\\n \\\n \0") None (false ∷ false ∷ true ∷ true ∷ []) (codes " $)(a \0") (codes " \\\n " ∷ codes "$" ∷ codes ")" ∷ codes "(" ∷ codes "a" ∷ codes "\\\n \\\n " ∷ codes "\0" ∷ []) (span 0 1 ∷ span 1 3 ∷ span 3 4 ∷ span 4 5 ∷ span 5 6 ∷ span 6 7 ∷ []) (span 1 5 ∷ span 6 7 ∷ []) ∷ []
row_160 = refl

row_161 : seen (codes "\t\\\\\n}}\t}") ≡ Seen (codes "\t\\\\\n") Lf (false ∷ false ∷ false ∷ true ∷ []) (codes "\t\\\\") (codes "\t" ∷ codes "\\" ∷ codes "\\" ∷ []) (span 0 1 ∷ span 1 3 ∷ []) (span 1 3 ∷ []) ∷ Seen (codes "}}\t}") None (false ∷ false ∷ false ∷ true ∷ []) (codes "}}\t}") (codes "}" ∷ codes "}" ∷ codes "\t" ∷ codes "}" ∷ []) (span 0 1 ∷ span 1 2 ∷ span 2 3 ∷ span 3 4 ∷ []) (span 0 2 ∷ span 3 4 ∷ []) ∷ []
row_161 = refl

row_162 : seen (codes " \\\n \n\\\r\n") ≡ Seen (codes " \\\n \n") Lf (false ∷ false ∷ false ∷ true ∷ []) (codes " ") (codes " \\\n " ∷ []) (span 0 1 ∷ []) [] ∷ Seen (codes "\\\r\n") CrLf (true ∷ false ∷ false ∷ false ∷ []) (codes "\\") (codes "\\" ∷ []) (span 0 1 ∷ []) (span 0 1 ∷ []) ∷ []
row_162 = refl

row_163 : seen (codes "\n\0  \n\t($\\\n\r\n") ≡ Seen (codes "\n") Lf (false ∷ false ∷ false ∷ true ∷ []) [] [] [] [] ∷ Seen (codes "\0  \n") Lf (false ∷ false ∷ true ∷ true ∷ []) (codes "\0  ") (codes "\0" ∷ codes " " ∷ codes " " ∷ []) (span 0 1 ∷ span 1 2 ∷ span 2 3 ∷ []) (span 0 1 ∷ []) ∷ Seen (codes "\t($\\\n\r\n") CrLf (false ∷ false ∷ false ∷ true ∷ []) (codes "\t($ ") (codes "\t" ∷ codes "(" ∷ codes "$" ∷ codes "\\\n" ∷ []) (span 0 1 ∷ span 1 2 ∷ span 2 4 ∷ []) (span 1 4 ∷ []) ∷ []
row_163 = refl

row_164 : seen (codes "a") ≡ Seen (codes "a") None (false ∷ false ∷ false ∷ true ∷ []) (codes "a") (codes "a" ∷ []) (span 0 1 ∷ []) (span 0 1 ∷ []) ∷ []
row_164 = refl

row_165 : seen (codes "$(a) a\n$( \t$${a)${}") ≡ Seen (codes "$(a) a\n") Lf (false ∷ false ∷ false ∷ true ∷ []) (codes "$(a) a") (codes "$" ∷ codes "(" ∷ codes "a" ∷ codes ")" ∷ codes " " ∷ codes "a" ∷ []) (span 0 4 ∷ span 4 5 ∷ span 5 6 ∷ []) (span 0 4 ∷ span 5 6 ∷ []) ∷ Seen (codes "$( \t$${a)${}") None (false ∷ false ∷ false ∷ true ∷ []) (codes "$( \t$${a)${}") (codes "$" ∷ codes "(" ∷ codes " " ∷ codes "\t" ∷ codes "$" ∷ codes "$" ∷ codes "{" ∷ codes "a" ∷ codes ")" ∷ codes "$" ∷ codes "{" ∷ codes "}" ∷ []) (span 0 9 ∷ span 9 12 ∷ []) (span 0 12 ∷ []) ∷ []
row_165 = refl

row_166 : seen (codes " $(a)") ≡ Seen (codes " $(a)") None (false ∷ false ∷ false ∷ true ∷ []) (codes " $(a)") (codes " " ∷ codes "$" ∷ codes "(" ∷ codes "a" ∷ codes ")" ∷ []) (span 0 1 ∷ span 1 5 ∷ []) (span 1 5 ∷ []) ∷ []
row_166 = refl

row_167 : seen (codes " \\\n $ ") ≡ Seen (codes " \\\n $ ") None (false ∷ false ∷ false ∷ true ∷ []) (codes " $ ") (codes " \\\n " ∷ codes "$" ∷ codes " " ∷ []) (span 0 1 ∷ span 1 3 ∷ []) (span 1 3 ∷ []) ∷ []
row_167 = refl

row_168 : seen (codes "\r( \\\n $$$\\\n \\\n a ") ≡ Seen (codes "\r( \\\n $$$\\\n \\\n a ") None (false ∷ false ∷ true ∷ true ∷ []) (codes "\r( $$$ a ") (codes "\r" ∷ codes "(" ∷ codes " \\\n " ∷ codes "$" ∷ codes "$" ∷ codes "$" ∷ codes "\\\n \\\n " ∷ codes "a" ∷ codes " " ∷ []) (span 0 1 ∷ span 1 2 ∷ span 2 3 ∷ span 3 5 ∷ span 5 7 ∷ span 7 8 ∷ span 8 9 ∷ []) (span 0 2 ∷ span 3 8 ∷ []) ∷ []
row_168 = refl

row_169 : seen (codes "${)\\\\\n\\\\\\\\\n$ \\\n  \t") ≡ Seen (codes "${)\\\\\n") Lf (false ∷ false ∷ false ∷ false ∷ []) (codes "${)\\\\") (codes "$" ∷ codes "{" ∷ codes ")" ∷ codes "\\" ∷ codes "\\" ∷ []) (span 0 5 ∷ []) (span 0 5 ∷ []) ∷ Seen (codes "\\\\\\\\\n") Lf (false ∷ false ∷ false ∷ true ∷ []) (codes "\\\\\\\\") (codes "\\" ∷ codes "\\" ∷ codes "\\" ∷ codes "\\" ∷ []) (span 0 2 ∷ span 2 4 ∷ []) (span 0 4 ∷ []) ∷ Seen (codes "$ \\\n  \t") None (false ∷ false ∷ false ∷ true ∷ []) (codes "$ ") (codes "$" ∷ codes " \\\n  \t" ∷ []) (span 0 2 ∷ []) (span 0 2 ∷ []) ∷ []
row_169 = refl

row_170 : seen (codes "\\\\\n)\\\n}$\\\n\\\r\n\\ ") ≡ Seen (codes "\\\\\n") Lf (false ∷ false ∷ false ∷ true ∷ []) (codes "\\\\") (codes "\\" ∷ codes "\\" ∷ []) (span 0 2 ∷ []) (span 0 2 ∷ []) ∷ Seen (codes ")\\\n}$\\\n\\\r\n\\ ") None (false ∷ false ∷ false ∷ true ∷ []) (codes ") }$ \\ ") (codes ")" ∷ codes "\\\n" ∷ codes "}" ∷ codes "$" ∷ codes "\\\n\\\r\n" ∷ codes "\\" ∷ codes " " ∷ []) (span 0 1 ∷ span 1 2 ∷ span 2 3 ∷ span 3 5 ∷ span 5 7 ∷ []) (span 0 1 ∷ span 2 7 ∷ []) ∷ []
row_170 = refl

row_171 : seen (codes "#a") ≡ Seen (codes "#a") None (false ∷ false ∷ false ∷ true ∷ []) (codes "#a") (codes "#" ∷ codes "a" ∷ []) (span 0 1 ∷ span 1 2 ∷ []) (span 0 2 ∷ []) ∷ []
row_171 = refl

row_172 : seen (codes "$a\t ( \\\n \\\n$(a)") ≡ Seen (codes "$a\t ( \\\n \\\n$(a)") None (false ∷ false ∷ false ∷ true ∷ []) (codes "$a\t ( $(a)") (codes "$" ∷ codes "a" ∷ codes "\t" ∷ codes " " ∷ codes "(" ∷ codes " \\\n \\\n" ∷ codes "$" ∷ codes "(" ∷ codes "a" ∷ codes ")" ∷ []) (span 0 2 ∷ span 2 3 ∷ span 3 4 ∷ span 4 5 ∷ span 5 6 ∷ span 6 10 ∷ []) (span 0 2 ∷ span 4 5 ∷ span 6 10 ∷ []) ∷ []
row_172 = refl

row_173 : seen (codes "\n\\$\\\n$(a){)  ") ≡ Seen (codes "\n") Lf (false ∷ false ∷ false ∷ true ∷ []) [] [] [] [] ∷ Seen (codes "\\$\\\n$(a){)  ") None (false ∷ false ∷ false ∷ true ∷ []) (codes "\\$ $(a){)  ") (codes "\\" ∷ codes "$" ∷ codes "\\\n" ∷ codes "$" ∷ codes "(" ∷ codes "a" ∷ codes ")" ∷ codes "{" ∷ codes ")" ∷ codes " " ∷ codes " " ∷ []) (span 0 1 ∷ span 1 3 ∷ span 3 7 ∷ span 7 8 ∷ span 8 9 ∷ span 9 10 ∷ span 10 11 ∷ []) (span 0 9 ∷ []) ∷ []
row_173 = refl

row_174 : seen (codes "\r\r\\)\\$ $(\\\n#") ≡ Seen (codes "\r\r\\)\\$ $(\\\n#") None (false ∷ false ∷ true ∷ false ∷ []) (codes "\r\r\\)\\$ $( #") (codes "\r" ∷ codes "\r" ∷ codes "\\" ∷ codes ")" ∷ codes "\\" ∷ codes "$" ∷ codes " " ∷ codes "$" ∷ codes "(" ∷ codes "\\\n" ∷ codes "#" ∷ []) (span 0 1 ∷ span 1 2 ∷ span 2 4 ∷ span 4 5 ∷ span 5 7 ∷ span 7 11 ∷ []) (span 0 11 ∷ []) ∷ []
row_174 = refl

row_175 : seen (codes "$\\\n\\$(a)\0)\r ") ≡ Seen (codes "$\\\n\\$(a)\0)\r ") None (false ∷ false ∷ true ∷ true ∷ []) (codes "$ \\$(a)\0)\r ") (codes "$" ∷ codes "\\\n" ∷ codes "\\" ∷ codes "$" ∷ codes "(" ∷ codes "a" ∷ codes ")" ∷ codes "\0" ∷ codes ")" ∷ codes "\r" ∷ codes " " ∷ []) (span 0 2 ∷ span 2 3 ∷ span 3 7 ∷ span 7 8 ∷ span 8 9 ∷ span 9 10 ∷ span 10 11 ∷ []) (span 0 10 ∷ []) ∷ []
row_175 = refl

row_176 : seen (codes "\r\n ${\r\n\\\r\n$(a))\\\\\n") ≡ Seen (codes "\r\n") CrLf (false ∷ false ∷ false ∷ true ∷ []) [] [] [] [] ∷ Seen (codes " ${\r\n") CrLf (false ∷ false ∷ false ∷ false ∷ []) (codes " ${") (codes " " ∷ codes "$" ∷ codes "{" ∷ []) (span 0 1 ∷ span 1 3 ∷ []) (span 1 3 ∷ []) ∷ Seen (codes "\\\r\n$(a))\\\\\n") Lf (false ∷ false ∷ false ∷ true ∷ []) (codes " $(a))\\\\") (codes "\\\r\n" ∷ codes "$" ∷ codes "(" ∷ codes "a" ∷ codes ")" ∷ codes ")" ∷ codes "\\" ∷ codes "\\" ∷ []) (span 0 1 ∷ span 1 5 ∷ span 5 6 ∷ span 6 8 ∷ []) (span 1 8 ∷ []) ∷ []
row_176 = refl

row_177 : seen (codes "$(a)\ta\\\\\n{ \n\\$\n") ≡ Seen (codes "$(a)\ta\\\\\n") Lf (false ∷ false ∷ false ∷ true ∷ []) (codes "$(a)\ta\\\\") (codes "$" ∷ codes "(" ∷ codes "a" ∷ codes ")" ∷ codes "\t" ∷ codes "a" ∷ codes "\\" ∷ codes "\\" ∷ []) (span 0 4 ∷ span 4 5 ∷ span 5 6 ∷ span 6 8 ∷ []) (span 0 4 ∷ span 5 8 ∷ []) ∷ Seen (codes "{ \n") Lf (false ∷ false ∷ false ∷ true ∷ []) (codes "{ ") (codes "{" ∷ codes " " ∷ []) (span 0 1 ∷ span 1 2 ∷ []) (span 0 1 ∷ []) ∷ Seen (codes "\\$\n") Lf (false ∷ false ∷ false ∷ false ∷ []) (codes "\\$") (codes "\\" ∷ codes "$" ∷ []) (span 0 1 ∷ span 1 2 ∷ []) (span 0 2 ∷ []) ∷ []
row_177 = refl

row_178 : seen (codes "#$\\\n\t\n\0\n)\\") ≡ Seen (codes "#$\\\n\t\n") Lf (false ∷ false ∷ false ∷ true ∷ []) (codes "#$ ") (codes "#" ∷ codes "$" ∷ codes "\\\n\t" ∷ []) (span 0 1 ∷ span 1 3 ∷ []) (span 0 3 ∷ []) ∷ Seen (codes "\0\n") Lf (false ∷ false ∷ true ∷ true ∷ []) (codes "\0") (codes "\0" ∷ []) (span 0 1 ∷ []) (span 0 1 ∷ []) ∷ Seen (codes ")\\") None (true ∷ false ∷ false ∷ false ∷ []) (codes ")\\") (codes ")" ∷ codes "\\" ∷ []) (span 0 1 ∷ span 1 2 ∷ []) (span 0 2 ∷ []) ∷ []
row_178 = refl

row_179 : seen (codes "\\{}") ≡ Seen (codes "\\{}") None (false ∷ false ∷ false ∷ true ∷ []) (codes "\\{}") (codes "\\" ∷ codes "{" ∷ codes "}" ∷ []) (span 0 2 ∷ span 2 3 ∷ []) (span 0 3 ∷ []) ∷ []
row_179 = refl

row_180 : seen (codes "}$\\\n\n\n#\0\\{\\}$(\r#") ≡ Seen (codes "}$\\\n\n") Lf (false ∷ false ∷ false ∷ true ∷ []) (codes "}$ ") (codes "}" ∷ codes "$" ∷ codes "\\\n" ∷ []) (span 0 1 ∷ span 1 3 ∷ []) (span 0 3 ∷ []) ∷ Seen (codes "\n") Lf (false ∷ false ∷ false ∷ true ∷ []) [] [] [] [] ∷ Seen (codes "#\0\\{\\}$(\r#") None (false ∷ false ∷ true ∷ false ∷ []) (codes "#\0\\{\\}$(\r#") (codes "#" ∷ codes "\0" ∷ codes "\\" ∷ codes "{" ∷ codes "\\" ∷ codes "}" ∷ codes "$" ∷ codes "(" ∷ codes "\r" ∷ codes "#" ∷ []) (span 0 1 ∷ span 1 2 ∷ span 2 4 ∷ span 4 6 ∷ span 6 10 ∷ []) (span 0 10 ∷ []) ∷ []
row_180 = refl

row_181 : seen (codes "${a#\n\\\\\n#\\") ≡ Seen (codes "${a#\n") Lf (false ∷ false ∷ false ∷ false ∷ []) (codes "${a#") (codes "$" ∷ codes "{" ∷ codes "a" ∷ codes "#" ∷ []) (span 0 4 ∷ []) (span 0 4 ∷ []) ∷ Seen (codes "\\\\\n") Lf (false ∷ false ∷ false ∷ true ∷ []) (codes "\\\\") (codes "\\" ∷ codes "\\" ∷ []) (span 0 2 ∷ []) (span 0 2 ∷ []) ∷ Seen (codes "#\\") None (true ∷ false ∷ false ∷ false ∷ []) (codes "#\\") (codes "#" ∷ codes "\\" ∷ []) (span 0 1 ∷ span 1 2 ∷ []) (span 0 2 ∷ []) ∷ []
row_181 = refl

row_182 : seen (codes "\\\r\n\\}(") ≡ Seen (codes "\\\r\n\\}(") None (false ∷ false ∷ false ∷ true ∷ []) (codes " \\}(") (codes "\\\r\n" ∷ codes "\\" ∷ codes "}" ∷ codes "(" ∷ []) (span 0 1 ∷ span 1 3 ∷ span 3 4 ∷ []) (span 1 4 ∷ []) ∷ []
row_182 = refl

row_183 : seen (codes ")\\#") ≡ Seen (codes ")\\#") None (false ∷ false ∷ false ∷ true ∷ []) (codes ")\\#") (codes ")" ∷ codes "\\" ∷ codes "#" ∷ []) (span 0 1 ∷ span 1 3 ∷ []) (span 0 3 ∷ []) ∷ []
row_183 = refl

row_184 : seen (codes "$)$(\\\n}\n\\") ≡ Seen (codes "$)$(\\\n}\n") Lf (false ∷ false ∷ false ∷ false ∷ []) (codes "$)$( }") (codes "$" ∷ codes ")" ∷ codes "$" ∷ codes "(" ∷ codes "\\\n" ∷ codes "}" ∷ []) (span 0 2 ∷ span 2 6 ∷ []) (span 0 6 ∷ []) ∷ Seen (codes "\\") None (true ∷ false ∷ false ∷ false ∷ []) (codes "\\") (codes "\\" ∷ []) (span 0 1 ∷ []) (span 0 1 ∷ []) ∷ []
row_184 = refl

row_185 : seen (codes "\\\n\n\n") ≡ Seen (codes "\\\n\n") Lf (false ∷ false ∷ false ∷ true ∷ []) (codes " ") (codes "\\\n" ∷ []) (span 0 1 ∷ []) [] ∷ Seen (codes "\n") Lf (false ∷ false ∷ false ∷ true ∷ []) [] [] [] [] ∷ []
row_185 = refl

row_186 : seen (codes "\r$)\\\n(") ≡ Seen (codes "\r$)\\\n(") None (false ∷ false ∷ true ∷ true ∷ []) (codes "\r$) (") (codes "\r" ∷ codes "$" ∷ codes ")" ∷ codes "\\\n" ∷ codes "(" ∷ []) (span 0 1 ∷ span 1 3 ∷ span 3 4 ∷ span 4 5 ∷ []) (span 0 3 ∷ span 4 5 ∷ []) ∷ []
row_186 = refl

row_187 : seen (codes "\r\na$(") ≡ Seen (codes "\r\n") CrLf (false ∷ false ∷ false ∷ true ∷ []) [] [] [] [] ∷ Seen (codes "a$(") None (false ∷ false ∷ false ∷ false ∷ []) (codes "a$(") (codes "a" ∷ codes "$" ∷ codes "(" ∷ []) (span 0 1 ∷ span 1 3 ∷ []) (span 0 3 ∷ []) ∷ []
row_187 = refl

row_188 : seen (codes "}(a\\\t") ≡ Seen (codes "}(a\\\t") None (false ∷ false ∷ false ∷ true ∷ []) (codes "}(a\\\t") (codes "}" ∷ codes "(" ∷ codes "a" ∷ codes "\\" ∷ codes "\t" ∷ []) (span 0 1 ∷ span 1 2 ∷ span 2 3 ∷ span 3 5 ∷ []) (span 0 5 ∷ []) ∷ []
row_188 = refl

row_189 : seen (codes "\\\\\\\n}\n${\r\n\\${") ≡ Seen (codes "\\\\\\\n}\n") Lf (false ∷ true ∷ false ∷ true ∷ []) (codes "\\\\ }") (codes "\\" ∷ codes "\\" ∷ codes "\\\n" ∷ codes "}" ∷ []) (span 0 2 ∷ span 2 3 ∷ span 3 4 ∷ []) (span 0 2 ∷ span 3 4 ∷ []) ∷ Seen (codes "${\r\n") CrLf (false ∷ false ∷ false ∷ false ∷ []) (codes "${") (codes "$" ∷ codes "{" ∷ []) (span 0 2 ∷ []) (span 0 2 ∷ []) ∷ Seen (codes "\\${") None (false ∷ false ∷ false ∷ false ∷ []) (codes "\\${") (codes "\\" ∷ codes "$" ∷ codes "{" ∷ []) (span 0 1 ∷ span 1 3 ∷ []) (span 0 3 ∷ []) ∷ []
row_189 = refl

row_190 : seen (codes "aa\0\\$\\a\\$(\n\\$") ≡ Seen (codes "aa\0\\$\\a\\$(\n") Lf (false ∷ false ∷ true ∷ false ∷ []) (codes "aa\0\\$\\a\\$(") (codes "a" ∷ codes "a" ∷ codes "\0" ∷ codes "\\" ∷ codes "$" ∷ codes "\\" ∷ codes "a" ∷ codes "\\" ∷ codes "$" ∷ codes "(" ∷ []) (span 0 1 ∷ span 1 2 ∷ span 2 3 ∷ span 3 4 ∷ span 4 6 ∷ span 6 7 ∷ span 7 8 ∷ span 8 10 ∷ []) (span 0 10 ∷ []) ∷ Seen (codes "\\$") None (false ∷ false ∷ false ∷ false ∷ []) (codes "\\$") (codes "\\" ∷ codes "$" ∷ []) (span 0 1 ∷ span 1 2 ∷ []) (span 0 2 ∷ []) ∷ []
row_190 = refl

row_191 : seen (codes "{\\\\\n\\\\\t \\\n \0") ≡ Seen (codes "{\\\\\n") Lf (false ∷ false ∷ false ∷ true ∷ []) (codes "{\\\\") (codes "{" ∷ codes "\\" ∷ codes "\\" ∷ []) (span 0 1 ∷ span 1 3 ∷ []) (span 0 3 ∷ []) ∷ Seen (codes "\\\\\t \\\n \0") None (false ∷ true ∷ true ∷ true ∷ []) (codes "\\\\ \0") (codes "\\" ∷ codes "\\" ∷ codes "\t \\\n " ∷ codes "\0" ∷ []) (span 0 2 ∷ span 2 3 ∷ span 3 4 ∷ []) (span 0 2 ∷ span 3 4 ∷ []) ∷ []
row_191 = refl

row_192 : seen (codes ")\t\n)\n\\\n\\") ≡ Seen (codes ")\t\n") Lf (false ∷ false ∷ false ∷ true ∷ []) (codes ")\t") (codes ")" ∷ codes "\t" ∷ []) (span 0 1 ∷ span 1 2 ∷ []) (span 0 1 ∷ []) ∷ Seen (codes ")\n") Lf (false ∷ false ∷ false ∷ true ∷ []) (codes ")") (codes ")" ∷ []) (span 0 1 ∷ []) (span 0 1 ∷ []) ∷ Seen (codes "\\\n\\") None (true ∷ false ∷ false ∷ false ∷ []) (codes " \\") (codes "\\\n" ∷ codes "\\" ∷ []) (span 0 1 ∷ span 1 2 ∷ []) (span 1 2 ∷ []) ∷ []
row_192 = refl

row_193 : seen (codes "\\\n ") ≡ Seen (codes "\\\n ") None (false ∷ false ∷ false ∷ true ∷ []) (codes " ") (codes "\\\n " ∷ []) (span 0 1 ∷ []) [] ∷ []
row_193 = refl

row_194 : seen (codes "\\\\\n $ )") ≡ Seen (codes "\\\\\n") Lf (false ∷ false ∷ false ∷ true ∷ []) (codes "\\\\") (codes "\\" ∷ codes "\\" ∷ []) (span 0 2 ∷ []) (span 0 2 ∷ []) ∷ Seen (codes " $ )") None (false ∷ false ∷ false ∷ true ∷ []) (codes " $ )") (codes " " ∷ codes "$" ∷ codes " " ∷ codes ")" ∷ []) (span 0 1 ∷ span 1 3 ∷ span 3 4 ∷ []) (span 1 4 ∷ []) ∷ []
row_194 = refl

row_195 : seen (codes ")(} #\\\\\n") ≡ Seen (codes ")(} #\\\\\n") Lf (false ∷ false ∷ false ∷ true ∷ []) (codes ")(} #\\\\") (codes ")" ∷ codes "(" ∷ codes "}" ∷ codes " " ∷ codes "#" ∷ codes "\\" ∷ codes "\\" ∷ []) (span 0 1 ∷ span 1 2 ∷ span 2 3 ∷ span 3 4 ∷ span 4 5 ∷ span 5 7 ∷ []) (span 0 3 ∷ span 4 7 ∷ []) ∷ []
row_195 = refl

row_196 : seen (codes ")\r\n\\($\\\n") ≡ Seen (codes ")\r\n") CrLf (false ∷ false ∷ false ∷ true ∷ []) (codes ")") (codes ")" ∷ []) (span 0 1 ∷ []) (span 0 1 ∷ []) ∷ Seen (codes "\\($\\\n") Lf (true ∷ false ∷ false ∷ true ∷ []) (codes "\\($\\") (codes "\\" ∷ codes "(" ∷ codes "$" ∷ codes "\\" ∷ []) (span 0 2 ∷ span 2 4 ∷ []) (span 0 4 ∷ []) ∷ []
row_196 = refl

row_197 : seen (codes "a$(a)(\\\\\n\\\r\n}aa\\\r\n\\\\\n\0a") ≡ Seen (codes "a$(a)(\\\\\n") Lf (false ∷ false ∷ false ∷ true ∷ []) (codes "a$(a)(\\\\") (codes "a" ∷ codes "$" ∷ codes "(" ∷ codes "a" ∷ codes ")" ∷ codes "(" ∷ codes "\\" ∷ codes "\\" ∷ []) (span 0 1 ∷ span 1 5 ∷ span 5 6 ∷ span 6 8 ∷ []) (span 0 8 ∷ []) ∷ Seen (codes "\\\r\n}aa\\\r\n\\\\\n") Lf (false ∷ false ∷ false ∷ true ∷ []) (codes " }aa \\\\") (codes "\\\r\n" ∷ codes "}" ∷ codes "a" ∷ codes "a" ∷ codes "\\\r\n" ∷ codes "\\" ∷ codes "\\" ∷ []) (span 0 1 ∷ span 1 2 ∷ span 2 3 ∷ span 3 4 ∷ span 4 5 ∷ span 5 7 ∷ []) (span 1 4 ∷ span 5 7 ∷ []) ∷ Seen (codes "\0a") None (false ∷ false ∷ true ∷ true ∷ []) (codes "\0a") (codes "\0" ∷ codes "a" ∷ []) (span 0 1 ∷ span 1 2 ∷ []) (span 0 2 ∷ []) ∷ []
row_197 = refl

row_198 : seen (codes "\0\\\n\r\n") ≡ Seen (codes "\0\\\n\r\n") CrLf (false ∷ false ∷ true ∷ true ∷ []) (codes "\0 ") (codes "\0" ∷ codes "\\\n" ∷ []) (span 0 1 ∷ span 1 2 ∷ []) (span 0 1 ∷ []) ∷ []
row_198 = refl

row_199 : seen (codes "} \\\\\n\n\\\r\n}\\\r\n\r\n") ≡ Seen (codes "} \\\\\n") Lf (false ∷ false ∷ false ∷ true ∷ []) (codes "} \\\\") (codes "}" ∷ codes " " ∷ codes "\\" ∷ codes "\\" ∷ []) (span 0 1 ∷ span 1 2 ∷ span 2 4 ∷ []) (span 0 1 ∷ span 2 4 ∷ []) ∷ Seen (codes "\n") Lf (false ∷ false ∷ false ∷ true ∷ []) [] [] [] [] ∷ Seen (codes "\\\r\n}\\\r\n\r\n") CrLf (false ∷ false ∷ false ∷ true ∷ []) (codes " } ") (codes "\\\r\n" ∷ codes "}" ∷ codes "\\\r\n" ∷ []) (span 0 1 ∷ span 1 2 ∷ span 2 3 ∷ []) (span 1 2 ∷ []) ∷ []
row_199 = refl

row_200 : seen (codes "a\\\\\n$\\\n\\\\\r\n \\\n #$\\\n\t") ≡ Seen (codes "a\\\\\n") Lf (false ∷ false ∷ false ∷ true ∷ []) (codes "a\\\\") (codes "a" ∷ codes "\\" ∷ codes "\\" ∷ []) (span 0 1 ∷ span 1 3 ∷ []) (span 0 3 ∷ []) ∷ Seen (codes "$\\\n\\\\\r\n") CrLf (false ∷ false ∷ false ∷ true ∷ []) (codes "$ \\\\") (codes "$" ∷ codes "\\\n" ∷ codes "\\" ∷ codes "\\" ∷ []) (span 0 2 ∷ span 2 4 ∷ []) (span 0 4 ∷ []) ∷ Seen (codes " \\\n #$\\\n\t") None (false ∷ false ∷ false ∷ true ∷ []) (codes " #$ ") (codes " \\\n " ∷ codes "#" ∷ codes "$" ∷ codes "\\\n\t" ∷ []) (span 0 1 ∷ span 1 2 ∷ span 2 4 ∷ []) (span 1 4 ∷ []) ∷ []
row_200 = refl

row_201 : seen (codes " ") ≡ Seen (codes " ") None (false ∷ false ∷ false ∷ true ∷ []) (codes " ") (codes " " ∷ []) (span 0 1 ∷ []) [] ∷ []
row_201 = refl

row_202 : seen (codes "\t\r\n$#") ≡ Seen (codes "\t\r\n") CrLf (false ∷ false ∷ false ∷ true ∷ []) (codes "\t") (codes "\t" ∷ []) (span 0 1 ∷ []) [] ∷ Seen (codes "$#") None (false ∷ false ∷ false ∷ true ∷ []) (codes "$#") (codes "$" ∷ codes "#" ∷ []) (span 0 2 ∷ []) (span 0 2 ∷ []) ∷ []
row_202 = refl

row_203 : seen (codes "\r\n\r${${\n#\r") ≡ Seen (codes "\r\n") CrLf (false ∷ false ∷ false ∷ true ∷ []) [] [] [] [] ∷ Seen (codes "\r${${\n") Lf (false ∷ false ∷ true ∷ false ∷ []) (codes "\r${${") (codes "\r" ∷ codes "$" ∷ codes "{" ∷ codes "$" ∷ codes "{" ∷ []) (span 0 1 ∷ span 1 5 ∷ []) (span 0 5 ∷ []) ∷ Seen (codes "#\r") None (true ∷ false ∷ true ∷ true ∷ []) (codes "#\r") (codes "#" ∷ codes "\r" ∷ []) (span 0 1 ∷ span 1 2 ∷ []) (span 0 2 ∷ []) ∷ []
row_203 = refl

row_204 : seen (codes "\\\n$(a)\0\\$(}\\{$\\\n$\r\n\\\t") ≡ Seen (codes "\\\n$(a)\0\\$(}\\{$\\\n$\r\n") CrLf (false ∷ false ∷ true ∷ false ∷ []) (codes " $(a)\0\\$(}\\{$ $") (codes "\\\n" ∷ codes "$" ∷ codes "(" ∷ codes "a" ∷ codes ")" ∷ codes "\0" ∷ codes "\\" ∷ codes "$" ∷ codes "(" ∷ codes "}" ∷ codes "\\" ∷ codes "{" ∷ codes "$" ∷ codes "\\\n" ∷ codes "$" ∷ []) (span 0 1 ∷ span 1 5 ∷ span 5 6 ∷ span 6 7 ∷ span 7 15 ∷ []) (span 1 15 ∷ []) ∷ Seen (codes "\\\t") None (false ∷ false ∷ false ∷ true ∷ []) (codes "\\\t") (codes "\\" ∷ codes "\t" ∷ []) (span 0 2 ∷ []) (span 0 2 ∷ []) ∷ []
row_204 = refl

row_205 : seen (codes "\\\r\n\\\n$(") ≡ Seen (codes "\\\r\n\\\n$(") None (false ∷ false ∷ false ∷ false ∷ []) (codes " $(") (codes "\\\r\n\\\n" ∷ codes "$" ∷ codes "(" ∷ []) (span 0 1 ∷ span 1 3 ∷ []) (span 1 3 ∷ []) ∷ []
row_205 = refl

row_206 : seen (codes "\\\t\\$\\\n\r\n#\\\\\n\t#") ≡ Seen (codes "\\\t\\$\\\n\r\n") CrLf (false ∷ false ∷ false ∷ true ∷ []) (codes "\\\t\\$ ") (codes "\\" ∷ codes "\t" ∷ codes "\\" ∷ codes "$" ∷ codes "\\\n" ∷ []) (span 0 2 ∷ span 2 3 ∷ span 3 5 ∷ []) (span 0 5 ∷ []) ∷ Seen (codes "#\\\\\n") Lf (false ∷ false ∷ false ∷ true ∷ []) (codes "#\\\\") (codes "#" ∷ codes "\\" ∷ codes "\\" ∷ []) (span 0 1 ∷ span 1 3 ∷ []) (span 0 3 ∷ []) ∷ Seen (codes "\t#") None (false ∷ false ∷ false ∷ true ∷ []) (codes "\t#") (codes "\t" ∷ codes "#" ∷ []) (span 0 1 ∷ span 1 2 ∷ []) (span 1 2 ∷ []) ∷ []
row_206 = refl

row_207 : seen (codes "a$a ") ≡ Seen (codes "a$a ") None (false ∷ false ∷ false ∷ true ∷ []) (codes "a$a ") (codes "a" ∷ codes "$" ∷ codes "a" ∷ codes " " ∷ []) (span 0 1 ∷ span 1 3 ∷ span 3 4 ∷ []) (span 0 3 ∷ []) ∷ []
row_207 = refl

row_208 : seen (codes "\\\\\n\\\\\n") ≡ Seen (codes "\\\\\n") Lf (false ∷ false ∷ false ∷ true ∷ []) (codes "\\\\") (codes "\\" ∷ codes "\\" ∷ []) (span 0 2 ∷ []) (span 0 2 ∷ []) ∷ Seen (codes "\\\\\n") Lf (false ∷ false ∷ false ∷ true ∷ []) (codes "\\\\") (codes "\\" ∷ codes "\\" ∷ []) (span 0 2 ∷ []) (span 0 2 ∷ []) ∷ []
row_208 = refl

row_209 : seen (codes ")\r") ≡ Seen (codes ")\r") None (true ∷ false ∷ true ∷ true ∷ []) (codes ")\r") (codes ")" ∷ codes "\r" ∷ []) (span 0 1 ∷ span 1 2 ∷ []) (span 0 2 ∷ []) ∷ []
row_209 = refl

row_210 : seen (codes "\\#") ≡ Seen (codes "\\#") None (false ∷ false ∷ false ∷ true ∷ []) (codes "\\#") (codes "\\" ∷ codes "#" ∷ []) (span 0 2 ∷ []) (span 0 2 ∷ []) ∷ []
row_210 = refl

row_211 : seen (codes "  \\\n })\t$\\\n}#$\\\n") ≡ Seen (codes "  \\\n })\t$\\\n}#$\\\n") Lf (true ∷ false ∷ false ∷ true ∷ []) (codes " })\t$ }#$\\") (codes "  \\\n " ∷ codes "}" ∷ codes ")" ∷ codes "\t" ∷ codes "$" ∷ codes "\\\n" ∷ codes "}" ∷ codes "#" ∷ codes "$" ∷ codes "\\" ∷ []) (span 0 1 ∷ span 1 2 ∷ span 2 3 ∷ span 3 4 ∷ span 4 6 ∷ span 6 7 ∷ span 7 8 ∷ span 8 10 ∷ []) (span 1 3 ∷ span 4 10 ∷ []) ∷ []
row_211 = refl

row_212 : seen (codes "$($\t\n\n\\#\\\n$($(\\\\\n") ≡ Seen (codes "$($\t\n") Lf (false ∷ false ∷ false ∷ false ∷ []) (codes "$($\t") (codes "$" ∷ codes "(" ∷ codes "$" ∷ codes "\t" ∷ []) (span 0 4 ∷ []) (span 0 4 ∷ []) ∷ Seen (codes "\n") Lf (false ∷ false ∷ false ∷ true ∷ []) [] [] [] [] ∷ Seen (codes "\\#\\\n$($(\\\\\n") Lf (false ∷ false ∷ false ∷ false ∷ []) (codes "\\# $($(\\\\") (codes "\\" ∷ codes "#" ∷ codes "\\\n" ∷ codes "$" ∷ codes "(" ∷ codes "$" ∷ codes "(" ∷ codes "\\" ∷ codes "\\" ∷ []) (span 0 2 ∷ span 2 3 ∷ span 3 9 ∷ []) (span 0 2 ∷ span 3 9 ∷ []) ∷ []
row_212 = refl

row_213 : seen (codes " ${\r\n\\$\\\n \\\n )\\\n\\\na") ≡ Seen (codes " ${\r\n") CrLf (false ∷ false ∷ false ∷ false ∷ []) (codes " ${") (codes " " ∷ codes "$" ∷ codes "{" ∷ []) (span 0 1 ∷ span 1 3 ∷ []) (span 1 3 ∷ []) ∷ Seen (codes "\\$\\\n \\\n )\\\n\\\na") None (false ∷ false ∷ false ∷ true ∷ []) (codes "\\$ ) a") (codes "\\" ∷ codes "$" ∷ codes "\\\n \\\n " ∷ codes ")" ∷ codes "\\\n\\\n" ∷ codes "a" ∷ []) (span 0 1 ∷ span 1 3 ∷ span 3 4 ∷ span 4 5 ∷ span 5 6 ∷ []) (span 0 4 ∷ span 5 6 ∷ []) ∷ []
row_213 = refl

row_214 : seen (codes "$(a)$(\n\\\n\t\r\n\\$(a)") ≡ Seen (codes "$(a)$(\n") Lf (false ∷ false ∷ false ∷ false ∷ []) (codes "$(a)$(") (codes "$" ∷ codes "(" ∷ codes "a" ∷ codes ")" ∷ codes "$" ∷ codes "(" ∷ []) (span 0 4 ∷ span 4 6 ∷ []) (span 0 6 ∷ []) ∷ Seen (codes "\\\n\t\r\n") CrLf (false ∷ false ∷ false ∷ true ∷ []) (codes " ") (codes "\\\n\t" ∷ []) (span 0 1 ∷ []) [] ∷ Seen (codes "\\$(a)") None (false ∷ false ∷ false ∷ true ∷ []) (codes "\\$(a)") (codes "\\" ∷ codes "$" ∷ codes "(" ∷ codes "a" ∷ codes ")" ∷ []) (span 0 1 ∷ span 1 5 ∷ []) (span 0 5 ∷ []) ∷ []
row_214 = refl

row_215 : seen (codes "$\r\r") ≡ Seen (codes "$\r\r") None (true ∷ false ∷ true ∷ true ∷ []) (codes "$\r\r") (codes "$" ∷ codes "\r" ∷ codes "\r" ∷ []) (span 0 2 ∷ span 2 3 ∷ []) (span 0 3 ∷ []) ∷ []
row_215 = refl

row_216 : seen (codes "$(a)}\n\0)\0\r\\\n\\\t") ≡ Seen (codes "$(a)}\n") Lf (false ∷ false ∷ false ∷ true ∷ []) (codes "$(a)}") (codes "$" ∷ codes "(" ∷ codes "a" ∷ codes ")" ∷ codes "}" ∷ []) (span 0 4 ∷ span 4 5 ∷ []) (span 0 5 ∷ []) ∷ Seen (codes "\0)\0\r\\\n\\\t") None (false ∷ false ∷ true ∷ true ∷ []) (codes "\0)\0\r \\\t") (codes "\0" ∷ codes ")" ∷ codes "\0" ∷ codes "\r" ∷ codes "\\\n" ∷ codes "\\" ∷ codes "\t" ∷ []) (span 0 1 ∷ span 1 2 ∷ span 2 3 ∷ span 3 4 ∷ span 4 5 ∷ span 5 7 ∷ []) (span 0 4 ∷ span 5 7 ∷ []) ∷ []
row_216 = refl

row_217 : seen (codes "#\\\\\\\n") ≡ Seen (codes "#\\\\\\\n") Lf (true ∷ false ∷ false ∷ false ∷ []) (codes "#\\\\\\") (codes "#" ∷ codes "\\" ∷ codes "\\" ∷ codes "\\" ∷ []) (span 0 1 ∷ span 1 3 ∷ span 3 4 ∷ []) (span 0 4 ∷ []) ∷ []
row_217 = refl

row_218 : seen (codes "\\\r\n$") ≡ Seen (codes "\\\r\n$") None (false ∷ false ∷ false ∷ false ∷ []) (codes " $") (codes "\\\r\n" ∷ codes "$" ∷ []) (span 0 1 ∷ span 1 2 ∷ []) (span 1 2 ∷ []) ∷ []
row_218 = refl

row_219 : seen (codes "$\\\n\n") ≡ Seen (codes "$\\\n\n") Lf (false ∷ false ∷ false ∷ true ∷ []) (codes "$ ") (codes "$" ∷ codes "\\\n" ∷ []) (span 0 2 ∷ []) (span 0 2 ∷ []) ∷ []
row_219 = refl

row_220 : seen (codes "$(\\\\\na\\\\\n${a\\\\\\\n\n\n$\\\n ") ≡ Seen (codes "$(\\\\\n") Lf (false ∷ false ∷ false ∷ false ∷ []) (codes "$(\\\\") (codes "$" ∷ codes "(" ∷ codes "\\" ∷ codes "\\" ∷ []) (span 0 4 ∷ []) (span 0 4 ∷ []) ∷ Seen (codes "a\\\\\n") Lf (false ∷ false ∷ false ∷ true ∷ []) (codes "a\\\\") (codes "a" ∷ codes "\\" ∷ codes "\\" ∷ []) (span 0 1 ∷ span 1 3 ∷ []) (span 0 3 ∷ []) ∷ Seen (codes "${a\\\\\\\n\n") Lf (false ∷ true ∷ false ∷ false ∷ []) (codes "${a\\\\ ") (codes "$" ∷ codes "{" ∷ codes "a" ∷ codes "\\" ∷ codes "\\" ∷ codes "\\\n" ∷ []) (span 0 6 ∷ []) (span 0 6 ∷ []) ∷ Seen (codes "\n") Lf (false ∷ false ∷ false ∷ true ∷ []) [] [] [] [] ∷ Seen (codes "$\\\n ") None (false ∷ false ∷ false ∷ true ∷ []) (codes "$ ") (codes "$" ∷ codes "\\\n " ∷ []) (span 0 2 ∷ []) (span 0 2 ∷ []) ∷ []
row_220 = refl

row_221 : seen (codes "${$\\\r\n\n)\r$") ≡ Seen (codes "${$\\\r\n\n") Lf (false ∷ false ∷ false ∷ false ∷ []) (codes "${$ ") (codes "$" ∷ codes "{" ∷ codes "$" ∷ codes "\\\r\n" ∷ []) (span 0 4 ∷ []) (span 0 4 ∷ []) ∷ Seen (codes ")\r$") None (false ∷ false ∷ true ∷ false ∷ []) (codes ")\r$") (codes ")" ∷ codes "\r" ∷ codes "$" ∷ []) (span 0 1 ∷ span 1 2 ∷ span 2 3 ∷ []) (span 0 3 ∷ []) ∷ []
row_221 = refl

row_222 : seen (codes " \\\n $\n\\\\$$(a)#a\n\\\\\0") ≡ Seen (codes " \\\n $\n") Lf (false ∷ false ∷ false ∷ false ∷ []) (codes " $") (codes " \\\n " ∷ codes "$" ∷ []) (span 0 1 ∷ span 1 2 ∷ []) (span 1 2 ∷ []) ∷ Seen (codes "\\\\$$(a)#a\n") Lf (false ∷ false ∷ false ∷ true ∷ []) (codes "\\\\$$(a)#a") (codes "\\" ∷ codes "\\" ∷ codes "$" ∷ codes "$" ∷ codes "(" ∷ codes "a" ∷ codes ")" ∷ codes "#" ∷ codes "a" ∷ []) (span 0 2 ∷ span 2 4 ∷ span 4 5 ∷ span 5 6 ∷ span 6 7 ∷ span 7 8 ∷ span 8 9 ∷ []) (span 0 9 ∷ []) ∷ Seen (codes "\\\\\0") None (false ∷ false ∷ true ∷ true ∷ []) (codes "\\\\\0") (codes "\\" ∷ codes "\\" ∷ codes "\0" ∷ []) (span 0 2 ∷ span 2 3 ∷ []) (span 0 3 ∷ []) ∷ []
row_222 = refl

row_223 : seen (codes "$\\\r\n$(\\\\\n\0{\\\n${\\\n\t}") ≡ Seen (codes "$\\\r\n$(\\\\\n") Lf (false ∷ false ∷ false ∷ false ∷ []) (codes "$ $(\\\\") (codes "$" ∷ codes "\\\r\n" ∷ codes "$" ∷ codes "(" ∷ codes "\\" ∷ codes "\\" ∷ []) (span 0 2 ∷ span 2 6 ∷ []) (span 0 6 ∷ []) ∷ Seen (codes "\0{\\\n${\\\n\t}") None (false ∷ false ∷ true ∷ true ∷ []) (codes "\0{ ${ }") (codes "\0" ∷ codes "{" ∷ codes "\\\n" ∷ codes "$" ∷ codes "{" ∷ codes "\\\n\t" ∷ codes "}" ∷ []) (span 0 1 ∷ span 1 2 ∷ span 2 3 ∷ span 3 7 ∷ []) (span 0 2 ∷ span 3 7 ∷ []) ∷ []
row_223 = refl

row_224 : seen (codes "\\\n\\ \t\\") ≡ Seen (codes "\\\n\\ \t\\") None (true ∷ false ∷ false ∷ false ∷ []) (codes " \\ \t\\") (codes "\\\n" ∷ codes "\\" ∷ codes " " ∷ codes "\t" ∷ codes "\\" ∷ []) (span 0 1 ∷ span 1 3 ∷ span 3 4 ∷ span 4 5 ∷ []) (span 1 3 ∷ span 4 5 ∷ []) ∷ []
row_224 = refl

row_225 : seen (codes "\na$(a)#\\$\\\n \\\n$(a") ≡ Seen (codes "\n") Lf (false ∷ false ∷ false ∷ true ∷ []) [] [] [] [] ∷ Seen (codes "a$(a)#\\$\\\n \\\n$(a") None (false ∷ false ∷ false ∷ false ∷ []) (codes "a$(a)#\\$ $(a") (codes "a" ∷ codes "$" ∷ codes "(" ∷ codes "a" ∷ codes ")" ∷ codes "#" ∷ codes "\\" ∷ codes "$" ∷ codes "\\\n \\\n" ∷ codes "$" ∷ codes "(" ∷ codes "a" ∷ []) (span 0 1 ∷ span 1 5 ∷ span 5 6 ∷ span 6 7 ∷ span 7 9 ∷ span 9 12 ∷ []) (span 0 12 ∷ []) ∷ []
row_225 = refl

row_226 : seen (codes "$\n#a\\\t#") ≡ Seen (codes "$\n") Lf (false ∷ false ∷ false ∷ false ∷ []) (codes "$") (codes "$" ∷ []) (span 0 1 ∷ []) (span 0 1 ∷ []) ∷ Seen (codes "#a\\\t#") None (false ∷ false ∷ false ∷ true ∷ []) (codes "#a\\\t#") (codes "#" ∷ codes "a" ∷ codes "\\" ∷ codes "\t" ∷ codes "#" ∷ []) (span 0 1 ∷ span 1 2 ∷ span 2 4 ∷ span 4 5 ∷ []) (span 0 5 ∷ []) ∷ []
row_226 = refl

row_227 : seen (codes " $(a)\0$a$(a)\n") ≡ Seen (codes " $(a)\0$a$(a)\n") Lf (false ∷ false ∷ true ∷ true ∷ []) (codes " $(a)\0$a$(a)") (codes " " ∷ codes "$" ∷ codes "(" ∷ codes "a" ∷ codes ")" ∷ codes "\0" ∷ codes "$" ∷ codes "a" ∷ codes "$" ∷ codes "(" ∷ codes "a" ∷ codes ")" ∷ []) (span 0 1 ∷ span 1 5 ∷ span 5 6 ∷ span 6 8 ∷ span 8 12 ∷ []) (span 1 12 ∷ []) ∷ []
row_227 = refl

row_228 : seen (codes "$($(\\\\\\$)\\\r\n\\\r\n#\\$") ≡ Seen (codes "$($(\\\\\\$)\\\r\n\\\r\n#\\$") None (false ∷ false ∷ false ∷ false ∷ []) (codes "$($(\\\\\\$) #\\$") (codes "$" ∷ codes "(" ∷ codes "$" ∷ codes "(" ∷ codes "\\" ∷ codes "\\" ∷ codes "\\" ∷ codes "$" ∷ codes ")" ∷ codes "\\\r\n\\\r\n" ∷ codes "#" ∷ codes "\\" ∷ codes "$" ∷ []) (span 0 13 ∷ []) (span 0 13 ∷ []) ∷ []
row_228 = refl

row_229 : seen (codes "$(a)a)\\\\\n$a") ≡ Seen (codes "$(a)a)\\\\\n") Lf (false ∷ false ∷ false ∷ true ∷ []) (codes "$(a)a)\\\\") (codes "$" ∷ codes "(" ∷ codes "a" ∷ codes ")" ∷ codes "a" ∷ codes ")" ∷ codes "\\" ∷ codes "\\" ∷ []) (span 0 4 ∷ span 4 5 ∷ span 5 6 ∷ span 6 8 ∷ []) (span 0 8 ∷ []) ∷ Seen (codes "$a") None (false ∷ false ∷ false ∷ true ∷ []) (codes "$a") (codes "$" ∷ codes "a" ∷ []) (span 0 2 ∷ []) (span 0 2 ∷ []) ∷ []
row_229 = refl

row_230 : seen (codes "# \\\\#\n\\\n") ≡ Seen (codes "# \\\\#\n") Lf (false ∷ false ∷ false ∷ true ∷ []) (codes "# \\\\#") (codes "#" ∷ codes " " ∷ codes "\\" ∷ codes "\\" ∷ codes "#" ∷ []) (span 0 1 ∷ span 1 2 ∷ span 2 4 ∷ span 4 5 ∷ []) (span 0 1 ∷ span 2 5 ∷ []) ∷ Seen (codes "\\\n") Lf (true ∷ false ∷ false ∷ false ∷ []) (codes "\\") (codes "\\" ∷ []) (span 0 1 ∷ []) (span 0 1 ∷ []) ∷ []
row_230 = refl

row_231 : seen (codes "}a{\\a \\\n \\\n$(a)$ (") ≡ Seen (codes "}a{\\a \\\n \\\n$(a)$ (") None (false ∷ false ∷ false ∷ true ∷ []) (codes "}a{\\a $(a)$ (") (codes "}" ∷ codes "a" ∷ codes "{" ∷ codes "\\" ∷ codes "a" ∷ codes " \\\n \\\n" ∷ codes "$" ∷ codes "(" ∷ codes "a" ∷ codes ")" ∷ codes "$" ∷ codes " " ∷ codes "(" ∷ []) (span 0 1 ∷ span 1 2 ∷ span 2 3 ∷ span 3 5 ∷ span 5 6 ∷ span 6 10 ∷ span 10 12 ∷ span 12 13 ∷ []) (span 0 5 ∷ span 6 13 ∷ []) ∷ []
row_231 = refl

row_232 : seen (codes "$a\\\\\n$ a") ≡ Seen (codes "$a\\\\\n") Lf (false ∷ false ∷ false ∷ true ∷ []) (codes "$a\\\\") (codes "$" ∷ codes "a" ∷ codes "\\" ∷ codes "\\" ∷ []) (span 0 2 ∷ span 2 4 ∷ []) (span 0 4 ∷ []) ∷ Seen (codes "$ a") None (false ∷ false ∷ false ∷ true ∷ []) (codes "$ a") (codes "$" ∷ codes " " ∷ codes "a" ∷ []) (span 0 2 ∷ span 2 3 ∷ []) (span 0 3 ∷ []) ∷ []
row_232 = refl

row_233 : seen (codes "\\\n\r(\r\n{\n$\n") ≡ Seen (codes "\\\n\r(\r\n") CrLf (false ∷ false ∷ true ∷ true ∷ []) (codes " \r(") (codes "\\\n" ∷ codes "\r" ∷ codes "(" ∷ []) (span 0 1 ∷ span 1 2 ∷ span 2 3 ∷ []) (span 1 3 ∷ []) ∷ Seen (codes "{\n") Lf (false ∷ false ∷ false ∷ true ∷ []) (codes "{") (codes "{" ∷ []) (span 0 1 ∷ []) (span 0 1 ∷ []) ∷ Seen (codes "$\n") Lf (false ∷ false ∷ false ∷ false ∷ []) (codes "$") (codes "$" ∷ []) (span 0 1 ∷ []) (span 0 1 ∷ []) ∷ []
row_233 = refl

row_234 : seen (codes "{\\\r\n") ≡ Seen (codes "{\\\r\n") CrLf (true ∷ false ∷ false ∷ false ∷ []) (codes "{\\") (codes "{" ∷ codes "\\" ∷ []) (span 0 1 ∷ span 1 2 ∷ []) (span 0 2 ∷ []) ∷ []
row_234 = refl

row_235 : seen (codes "\\\r($( {$") ≡ Seen (codes "\\\r($( {$") None (false ∷ false ∷ true ∷ false ∷ []) (codes "\\\r($( {$") (codes "\\" ∷ codes "\r" ∷ codes "(" ∷ codes "$" ∷ codes "(" ∷ codes " " ∷ codes "{" ∷ codes "$" ∷ []) (span 0 2 ∷ span 2 3 ∷ span 3 8 ∷ []) (span 0 8 ∷ []) ∷ []
row_235 = refl

row_236 : seen (codes "\\\\\n") ≡ Seen (codes "\\\\\n") Lf (false ∷ false ∷ false ∷ true ∷ []) (codes "\\\\") (codes "\\" ∷ codes "\\" ∷ []) (span 0 2 ∷ []) (span 0 2 ∷ []) ∷ []
row_236 = refl

row_237 : seen (codes "\\${)${ (\\\n \n#{a") ≡ Seen (codes "\\${)${ (\\\n \n") Lf (false ∷ false ∷ false ∷ false ∷ []) (codes "\\${)${ ( ") (codes "\\" ∷ codes "$" ∷ codes "{" ∷ codes ")" ∷ codes "$" ∷ codes "{" ∷ codes " " ∷ codes "(" ∷ codes "\\\n " ∷ []) (span 0 1 ∷ span 1 9 ∷ []) (span 0 9 ∷ []) ∷ Seen (codes "#{a") None (false ∷ false ∷ false ∷ true ∷ []) (codes "#{a") (codes "#" ∷ codes "{" ∷ codes "a" ∷ []) (span 0 1 ∷ span 1 2 ∷ span 2 3 ∷ []) (span 0 3 ∷ []) ∷ []
row_237 = refl

row_238 : seen (codes "a$(a)\\\\\n}\\") ≡ Seen (codes "a$(a)\\\\\n") Lf (false ∷ false ∷ false ∷ true ∷ []) (codes "a$(a)\\\\") (codes "a" ∷ codes "$" ∷ codes "(" ∷ codes "a" ∷ codes ")" ∷ codes "\\" ∷ codes "\\" ∷ []) (span 0 1 ∷ span 1 5 ∷ span 5 7 ∷ []) (span 0 7 ∷ []) ∷ Seen (codes "}\\") None (true ∷ false ∷ false ∷ false ∷ []) (codes "}\\") (codes "}" ∷ codes "\\" ∷ []) (span 0 1 ∷ span 1 2 ∷ []) (span 0 2 ∷ []) ∷ []
row_238 = refl

row_239 : seen (codes "\\\r\n\0}a$(a)\r\n\n\t\n") ≡ Seen (codes "\\\r\n\0}a$(a)\r\n") CrLf (false ∷ false ∷ true ∷ true ∷ []) (codes " \0}a$(a)") (codes "\\\r\n" ∷ codes "\0" ∷ codes "}" ∷ codes "a" ∷ codes "$" ∷ codes "(" ∷ codes "a" ∷ codes ")" ∷ []) (span 0 1 ∷ span 1 2 ∷ span 2 3 ∷ span 3 4 ∷ span 4 8 ∷ []) (span 1 8 ∷ []) ∷ Seen (codes "\n") Lf (false ∷ false ∷ false ∷ true ∷ []) [] [] [] [] ∷ Seen (codes "\t\n") Lf (false ∷ false ∷ false ∷ true ∷ []) (codes "\t") (codes "\t" ∷ []) (span 0 1 ∷ []) [] ∷ []
row_239 = refl

row_240 : seen (codes "$\n$(\\}{\r$\r{$\\\n#}") ≡ Seen (codes "$\n") Lf (false ∷ false ∷ false ∷ false ∷ []) (codes "$") (codes "$" ∷ []) (span 0 1 ∷ []) (span 0 1 ∷ []) ∷ Seen (codes "$(\\}{\r$\r{$\\\n#}") None (false ∷ false ∷ true ∷ false ∷ []) (codes "$(\\}{\r$\r{$ #}") (codes "$" ∷ codes "(" ∷ codes "\\" ∷ codes "}" ∷ codes "{" ∷ codes "\r" ∷ codes "$" ∷ codes "\r" ∷ codes "{" ∷ codes "$" ∷ codes "\\\n" ∷ codes "#" ∷ codes "}" ∷ []) (span 0 13 ∷ []) (span 0 13 ∷ []) ∷ []
row_240 = refl

row_241 : seen (codes "$( {\n\n") ≡ Seen (codes "$( {\n") Lf (false ∷ false ∷ false ∷ false ∷ []) (codes "$( {") (codes "$" ∷ codes "(" ∷ codes " " ∷ codes "{" ∷ []) (span 0 4 ∷ []) (span 0 4 ∷ []) ∷ Seen (codes "\n") Lf (false ∷ false ∷ false ∷ true ∷ []) [] [] [] [] ∷ []
row_241 = refl

row_242 : seen (codes "$(a)\r\n $(\\\r\na$ ${)\\a") ≡ Seen (codes "$(a)\r\n") CrLf (false ∷ false ∷ false ∷ true ∷ []) (codes "$(a)") (codes "$" ∷ codes "(" ∷ codes "a" ∷ codes ")" ∷ []) (span 0 4 ∷ []) (span 0 4 ∷ []) ∷ Seen (codes " $(\\\r\na$ ${)\\a") None (false ∷ false ∷ false ∷ true ∷ []) (codes " $( a$ ${)\\a") (codes " " ∷ codes "$" ∷ codes "(" ∷ codes "\\\r\n" ∷ codes "a" ∷ codes "$" ∷ codes " " ∷ codes "$" ∷ codes "{" ∷ codes ")" ∷ codes "\\" ∷ codes "a" ∷ []) (span 0 1 ∷ span 1 10 ∷ span 10 12 ∷ []) (span 1 12 ∷ []) ∷ []
row_242 = refl

row_243 : seen (codes "$(a\n$\\\\\n\0\\\n") ≡ Seen (codes "$(a\n") Lf (false ∷ false ∷ false ∷ false ∷ []) (codes "$(a") (codes "$" ∷ codes "(" ∷ codes "a" ∷ []) (span 0 3 ∷ []) (span 0 3 ∷ []) ∷ Seen (codes "$\\\\\n") Lf (false ∷ false ∷ false ∷ false ∷ []) (codes "$\\\\") (codes "$" ∷ codes "\\" ∷ codes "\\" ∷ []) (span 0 2 ∷ span 2 3 ∷ []) (span 0 3 ∷ []) ∷ Seen (codes "\0\\\n") Lf (true ∷ false ∷ true ∷ false ∷ []) (codes "\0\\") (codes "\0" ∷ codes "\\" ∷ []) (span 0 1 ∷ span 1 2 ∷ []) (span 0 2 ∷ []) ∷ []
row_243 = refl

row_244 : seen (codes " ") ≡ Seen (codes " ") None (false ∷ false ∷ false ∷ true ∷ []) (codes " ") (codes " " ∷ []) (span 0 1 ∷ []) [] ∷ []
row_244 = refl

row_245 : seen (codes "\n#\\aa\r\n\n") ≡ Seen (codes "\n") Lf (false ∷ false ∷ false ∷ true ∷ []) [] [] [] [] ∷ Seen (codes "#\\aa\r\n") CrLf (false ∷ false ∷ false ∷ true ∷ []) (codes "#\\aa") (codes "#" ∷ codes "\\" ∷ codes "a" ∷ codes "a" ∷ []) (span 0 1 ∷ span 1 3 ∷ span 3 4 ∷ []) (span 0 4 ∷ []) ∷ Seen (codes "\n") Lf (false ∷ false ∷ false ∷ true ∷ []) [] [] [] [] ∷ []
row_245 = refl

row_246 : seen (codes "\n(") ≡ Seen (codes "\n") Lf (false ∷ false ∷ false ∷ true ∷ []) [] [] [] [] ∷ Seen (codes "(") None (false ∷ false ∷ false ∷ true ∷ []) (codes "(") (codes "(" ∷ []) (span 0 1 ∷ []) (span 0 1 ∷ []) ∷ []
row_246 = refl

row_247 : seen (codes "}\\\r\n$(\n}") ≡ Seen (codes "}\\\r\n$(\n") Lf (false ∷ false ∷ false ∷ false ∷ []) (codes "} $(") (codes "}" ∷ codes "\\\r\n" ∷ codes "$" ∷ codes "(" ∷ []) (span 0 1 ∷ span 1 2 ∷ span 2 4 ∷ []) (span 0 1 ∷ span 2 4 ∷ []) ∷ Seen (codes "}") None (false ∷ false ∷ false ∷ true ∷ []) (codes "}") (codes "}" ∷ []) (span 0 1 ∷ []) (span 0 1 ∷ []) ∷ []
row_247 = refl

row_248 : seen (codes " \\\n \0\\\n\0$\\\n\t{\r\n$(a)\\$(a)") ≡ Seen (codes " \\\n \0\\\n\0$\\\n\t{\r\n") CrLf (false ∷ false ∷ true ∷ true ∷ []) (codes " \0 \0$ {") (codes " \\\n " ∷ codes "\0" ∷ codes "\\\n" ∷ codes "\0" ∷ codes "$" ∷ codes "\\\n\t" ∷ codes "{" ∷ []) (span 0 1 ∷ span 1 2 ∷ span 2 3 ∷ span 3 4 ∷ span 4 6 ∷ span 6 7 ∷ []) (span 1 2 ∷ span 3 7 ∷ []) ∷ Seen (codes "$(a)\\$(a)") None (false ∷ false ∷ false ∷ true ∷ []) (codes "$(a)\\$(a)") (codes "$" ∷ codes "(" ∷ codes "a" ∷ codes ")" ∷ codes "\\" ∷ codes "$" ∷ codes "(" ∷ codes "a" ∷ codes ")" ∷ []) (span 0 4 ∷ span 4 5 ∷ span 5 9 ∷ []) (span 0 9 ∷ []) ∷ []
row_248 = refl

row_249 : seen (codes "$$(a)(\\\r\n\0{$()a${{)") ≡ Seen (codes "$$(a)(\\\r\n\0{$()a${{)") None (false ∷ false ∷ true ∷ false ∷ []) (codes "$$(a)( \0{$()a${{)") (codes "$" ∷ codes "$" ∷ codes "(" ∷ codes "a" ∷ codes ")" ∷ codes "(" ∷ codes "\\\r\n" ∷ codes "\0" ∷ codes "{" ∷ codes "$" ∷ codes "(" ∷ codes ")" ∷ codes "a" ∷ codes "$" ∷ codes "{" ∷ codes "{" ∷ codes ")" ∷ []) (span 0 2 ∷ span 2 3 ∷ span 3 4 ∷ span 4 5 ∷ span 5 6 ∷ span 6 7 ∷ span 7 8 ∷ span 8 9 ∷ span 9 12 ∷ span 12 13 ∷ span 13 17 ∷ []) (span 0 6 ∷ span 7 17 ∷ []) ∷ []
row_249 = refl
