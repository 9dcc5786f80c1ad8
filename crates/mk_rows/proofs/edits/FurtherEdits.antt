-- Edits with their answers. Made by `tests/definitions/edit_rows.py tests/cases/further-edits.tsv`.
use Rattle.std.proofs.Common.{◌≡◌, refl, ℕ, List, [], ◌∷◌, map, Some, None}
use Rattle.std.specs.Prelude.{codes}
use Rattle.mk_class.specs.declared.assignment.Flavor.TheVariants.{Recursive, Simple, PosixSimple, Immediate, Conditional, Append, Shell}
use Rattle.mk_edit_language.specs.declared.edit.RuleSeparator.TheVariants.{Single, Double}
use Rattle.mk_edit_language.specs.declared.edit.Side.TheVariants.{Before, After}
use Rattle.mk_edit_language.specs.Edits.{Edit, Top, Bottom, AfterLastVar, BeforeVar, AfterVar, BeforeRule, AfterRule, BeforeRun, AfterRun}
use Rattle.mk_edit_language.specs.Edits.{One, Every, NewAssign, NewRule, ReplacePrereq, ByText, CommentOut, Uncomment, AtPlace, OfRun, OfRuleRun, ChangeEach, SubstValues, SubstRecipe, SubstRecipes, ChangeValue, ChangeLine, ChangePrereqs, AddLine, SetRecipe, SwitchLine, RenameTarget, ExchangeLines, EachLine}
use Rattle.mk_edit_language.specs.Edits as edits
use Rattle.mk_edit_language.specs.LineRuns.{block_lines}
use Rattle.mk_edit_language.specs.declared.refusal.Refusal.TheVariants.{BadArgument, Reserved, RecipePrefix, NoSuch, Ambiguous, Absent, Already, SharedRule, Straddles, OpenLine, OpenDefine, Leans, Misread}
use Rattle.mk_edit_language.specs.declared.refusal.Field.TheVariants as field
use Rattle.mk_rows.proofs.edits.Outcomes.{account, Account, span, Becomes, Accepted, NotMade, NotTried}

abbrev rows_1 : List (List ℕ × Edit × Account)
rows_1 =
    (codes "F = -O2 -O23 # c\n", ChangeLine None (codes "F") (edits.ReplaceWord (codes "-O2") (codes "-O3 -g")), Accepted 1 1 (span 4 7 (codes "-O3 -g") ∷ []) (Becomes (codes "F = -O3 -g -O23 # c\n"))) ∷  -- further-0
    (codes "S = a.c \\\n    b.c\n", ChangeLine None (codes "S") (edits.InsertWord After (codes "a.c") (codes "x.c")), Accepted 1 1 (span 7 7 (codes " \\\n    x.c") ∷ []) (Becomes (codes "S = a.c \\\n    x.c \\\n    b.c\n"))) ∷  -- further-1
    (codes "S = a.c \\\n    b.c\n", ChangeLine None (codes "S") (edits.InsertWord After (codes "b.c") (codes "x.c")), Accepted 1 1 (span 17 17 (codes " \\\n    x.c") ∷ []) (Becomes (codes "S = a.c \\\n    b.c \\\n    x.c\n"))) ∷  -- further-2
    (codes "S = a.c b.c # c\n", ChangeLine None (codes "S") (edits.InsertWord Before (codes "a.c") (codes "x.c")), Accepted 1 1 (span 4 4 (codes "x.c ") ∷ []) (Becomes (codes "S = x.c a.c b.c # c\n"))) ∷  -- further-3
    (codes "S = a.c b.c\n", ChangeLine None (codes "S") (edits.InsertWord After (codes "a.c") (codes "b.c")), NotTried Already) ∷  -- further-4
    (codes "D = /usr/local/bin:/usr/local/lib\n", ChangeLine None (codes "D") (edits.Substitute (codes "/usr/local") (codes "/usr")), Accepted 1 1 (span 4 14 (codes "/usr") ∷ span 19 29 (codes "/usr") ∷ []) (Becomes (codes "D = /usr/bin:/usr/lib\n"))) ∷  -- further-5
    (codes "F = a b\n", ChangeLine None (codes "F") (edits.Substitute (codes "a ") []), Accepted 1 1 (span 4 6 [] ∷ []) (Becomes (codes "F = b\n"))) ∷  -- further-6
    (codes "F = a b\n", ChangeLine None (codes "F") (edits.Substitute (codes "a") []), Accepted 1 1 (span 4 5 [] ∷ []) (Becomes (codes "F =  b\n"))) ∷  -- further-7
    (codes "F = a b\n", ChangeLine None (codes "F") (edits.Substitute (codes "a") (codes "x # y")), NotMade 1 Misread) ∷  -- further-8
    (codes "F = $(x)\n", ChangeLine None (codes "F") (edits.Substitute (codes ")") []), Accepted 1 1 (span 7 8 [] ∷ []) (Becomes (codes "F = $(x\n"))) ∷  -- further-9
    (codes "F = $(x) # c\n", ChangeLine None (codes "F") (edits.Substitute (codes ")") []), NotMade 1 Misread) ∷  -- further-10
    (codes "T += a\nT += b\n", ChangeValue (One None) (codes "T") (edits.SetIf (codes "b") (codes "c")), Accepted 1 1 (span 12 13 (codes "c") ∷ []) (Becomes (codes "T += a\nT += c\n"))) ∷  -- further-11
    (codes "T += a\n", ChangeValue (One None) (codes "T") (edits.SetIf (codes "b") (codes "c")), NotTried Absent) ∷  -- further-12
    (codes "CC = gcc\n", ChangeLine None (codes "CC") (edits.SetOperator Conditional), Accepted 1 1 (span 3 4 (codes "?=") ∷ []) (Becomes (codes "CC ?= gcc\n"))) ∷  -- further-13
    (codes "L = -lm # libs\n", ChangeLine None (codes "L") (edits.Prepend (codes "-lz")), Accepted 1 1 (span 4 4 (codes "-lz ") ∷ []) (Becomes (codes "L = -lz -lm # libs\n"))) ∷  -- further-14
    (codes "L =\n", ChangeLine None (codes "L") (edits.Prepend (codes "-lz")), Accepted 1 1 (span 3 3 (codes "-lz") ∷ []) (Becomes (codes "L =-lz\n"))) ∷  -- further-15
    (codes "p: a.a b.o | d\n", ChangePrereqs None (codes "p") (ReplacePrereq (codes "a.a") (codes "a.so")), Accepted 1 1 (span 3 6 (codes "a.so") ∷ []) (Becomes (codes "p: a.so b.o | d\n"))) ∷  -- further-16
    (codes "p: a b\n", ChangePrereqs None (codes "p") (ReplacePrereq (codes "a") (codes "b")), NotTried Already) ∷  -- further-17
    (codes "i:\n\t@cc -s x\n\tcc -s y; cc -s z\n", EachLine (SubstRecipe None (codes "i") (codes "cc -s") (codes "cc")), Accepted 2 2 (span 5 10 (codes "cc") ∷ span 14 19 (codes "cc") ∷ span 23 28 (codes "cc") ∷ []) (Becomes (codes "i:\n\t@cc x\n\tcc y; cc z\n"))) ∷  -- further-18
    (codes "i:\n\ta; \\\n\tb\n", EachLine (SubstRecipe None (codes "i") (codes "; \\") (codes " && \\")), Accepted 1 1 (span 5 8 (codes " && \\") ∷ []) (Becomes (codes "i:\n\ta && \\\n\tb\n"))) ∷  -- further-19
    (codes "i:\n\ta \\\n\tb\n", EachLine (SubstRecipe None (codes "i") (codes " \\") []), NotMade 1 Misread) ∷  -- further-20
    (codes "i:\n\ta\n", EachLine (SubstRecipe None (codes "i") (codes "a") (codes "a \\")), NotMade 1 Misread) ∷  -- further-21
    (codes "X = 1\n", ExchangeLines (AtPlace Top) (block_lines (codes "# ours")), Accepted 1 0 (span 0 0 (codes "# ours\n") ∷ []) (Becomes (codes "# ours\nX = 1\n"))) ∷  -- further-22
    (codes "a: b\n\tcc\n\nX = 1\n", ExchangeLines (AtPlace (AfterRule None (codes "a"))) (block_lines (codes "c: d\n\tcp $< $@")), Accepted 2 0 (span 9 9 (codes "c: d\n\tcp $< $@\n") ∷ []) (Becomes (codes "a: b\n\tcc\nc: d\n\tcp $< $@\n\nX = 1\n"))) ∷  -- further-23
    (codes "X = 1\nY = 2\n", ExchangeLines (OfRun None (block_lines (codes "X = 1"))) (block_lines (codes "ifdef A\nX = 1\nendif")), Accepted 3 1 (span 0 6 (codes "ifdef A\nX = 1\nendif\n") ∷ []) (Becomes (codes "ifdef A\nX = 1\nendif\nY = 2\n"))) ∷  -- further-24
    (codes "ifdef A\nX = 1\nendif\n", ExchangeLines (OfRun None (block_lines (codes "ifdef A"))) (block_lines (codes "ifndef A")), Accepted 1 1 (span 0 8 (codes "ifndef A\n") ∷ []) (Becomes (codes "ifndef A\nX = 1\nendif\n"))) ∷  -- further-25
    (codes "ifdef A\nX = 1\nendif\n", ExchangeLines (OfRun None (block_lines (codes "endif"))) [], NotMade 0 Misread) ∷  -- further-26
    (codes "include a.mk\n-include b.mk", ExchangeLines (AfterRun None (block_lines (codes "-include b.mk"))) (block_lines (codes "include c.mk")), Accepted 1 0 (span 26 26 (codes "\ninclude c.mk\n") ∷ []) (Becomes (codes "include a.mk\n-include b.mk\ninclude c.mk\n"))) ∷  -- further-27
    (codes "define D\nX\nendef\n", ExchangeLines (OfRun None (block_lines (codes "X"))) (block_lines (codes "Y")), Accepted 1 1 (span 9 11 (codes "Y\n") ∷ []) (Becomes (codes "define D\nY\nendef\n"))) ∷  -- further-28
    (codes "X\nX\n", ExchangeLines (OfRun None (block_lines (codes "X"))) [], NotMade 0 (Ambiguous 2)) ∷  -- further-29
    (codes "X\nX\n", ExchangeLines (OfRun (Some 2) (block_lines (codes "X"))) [], Accepted 0 1 (span 2 4 [] ∷ []) (Becomes (codes "X\n"))) ∷  -- further-30
    (codes "a:\n\tx\n", ExchangeLines (AfterRun None (block_lines (codes "a:"))) (block_lines (codes "Y = 1")), NotMade 1 Leans) ∷  -- further-31
    (codes "F = a \\\n  b\n", ExchangeLines (OfRun None (block_lines (codes "F = a \\\n  b"))) (block_lines (codes "F = a")), Accepted 1 1 (span 0 12 (codes "F = a\n") ∷ []) (Becomes (codes "F = a\n"))) ∷  -- further-32
    (codes "a\r\nb\r\n", ExchangeLines (OfRun None (block_lines (codes "a"))) (block_lines (codes "c")), Accepted 1 1 (span 0 3 (codes "c\r\n") ∷ []) (Becomes (codes "c\r\nb\r\n"))) ∷  -- further-33
    (codes "t:\nifdef A\n\tx\nendif\n\ty\n\nX = 1\n", ExchangeLines (OfRuleRun None (codes "t")) (block_lines (codes "t:\n\ttrue")), Accepted 2 5 (span 0 23 (codes "t:\n\ttrue\n") ∷ []) (Becomes (codes "t:\n\ttrue\n\nX = 1\n"))) ∷  -- further-34
    (codes "ifdef A\nt:\n\tx\nelse\n\ty\nendif\n", ExchangeLines (OfRuleRun None (codes "t")) [], NotMade 0 Straddles) ∷  -- further-35
    (codes "C = a\nC += b\nX = 1\n", AddLine (AfterLastVar (codes "C")) (NewAssign (codes "C") Append (codes "c")), Accepted 1 0 (span 13 13 (codes "C += c\n") ∷ []) (Becomes (codes "C = a\nC += b\nC += c\nX = 1\n"))) ∷  -- further-36
    (codes "CC = gcc \\\n  -g\nX = 1\n", SwitchLine CommentOut None (codes "CC"), Accepted 1 1 (span 0 0 (codes "#") ∷ []) (Becomes (codes "#CC = gcc \\\n  -g\nX = 1\n"))) ∷  -- further-37
    (codes "#SYSTEMD=y\n# SYSTEMD is for v2\n", SwitchLine Uncomment None (codes "SYSTEMD"), Accepted 1 1 (span 0 1 [] ∷ []) (Becomes (codes "SYSTEMD=y\n# SYSTEMD is for v2\n"))) ∷  -- further-38
    (codes "# CC = gcc\n#CC = clang\n", SwitchLine Uncomment None (codes "CC"), NotTried (Ambiguous 2)) ∷  -- further-39
    (codes "# export P = 1\n", SwitchLine Uncomment None (codes "P"), Accepted 1 1 (span 0 2 [] ∷ []) (Becomes (codes "export P = 1\n"))) ∷  -- further-40
    (codes "F = -g -O2 -g # c\n", ChangeValue (One None) (codes "F") (edits.Remove (codes "-g")), Accepted 1 1 (span 4 7 [] ∷ span 10 13 [] ∷ []) (Becomes (codes "F = -O2 # c\n"))) ∷  -- further-41
    (codes "define D\nX", ExchangeLines (AfterRun None (block_lines (codes "X"))) (block_lines (codes "Y")), Accepted 1 0 (span 10 10 (codes "\nY\n") ∷ []) (Becomes (codes "define D\nX\nY\n"))) ∷  -- further-42
    (codes "a:\n\tx", ExchangeLines (AtPlace Bottom) (block_lines (codes "\ty")), Accepted 1 0 (span 5 5 (codes "\n\ty\n") ∷ []) (Becomes (codes "a:\n\tx\n\ty\n"))) ∷  -- further-43
    (codes "a:\r\n\tx", ExchangeLines (AtPlace (AfterRule None (codes "a"))) (block_lines (codes "\ty")), Accepted 1 0 (span 6 6 (codes "\r\n\ty\r\n") ∷ []) (Becomes (codes "a:\r\n\tx\r\n\ty\r\n"))) ∷  -- further-44
    (codes "a b:\n\tx\n", ExchangeLines (AtPlace (AfterRule None (codes "a"))) (block_lines (codes "y")), Accepted 1 0 (span 8 8 (codes "y\n") ∷ []) (Becomes (codes "a b:\n\tx\ny\n"))) ∷  -- further-45
    (codes "a b:\n\tx\n", AddLine (AfterRule None (codes "b")) (NewAssign (codes "Y") Recursive (codes "1")), Accepted 1 0 (span 8 8 (codes "Y = 1\n") ∷ []) (Becomes (codes "a b:\n\tx\nY = 1\n"))) ∷  -- further-46
    (codes "a b:\n\tx\n", ExchangeLines (OfRuleRun None (codes "b")) [], NotMade 0 (SharedRule 2)) ∷  -- further-47
    (codes "a a:\n\tx\n", ExchangeLines (OfRuleRun None (codes "a")) (block_lines (codes "x")), NotMade 1 (SharedRule 2)) ∷  -- further-48
    (codes "a b: c\n", ExchangeLines (OfRuleRun None (codes "a")) (block_lines (codes "a b: c")), NotMade 1 (SharedRule 2)) ∷  -- further-49
    []

answers_1 : map (λ row. account row.0 row.1) rows_1 ≡ map (λ row. row.2) rows_1
answers_1 = refl

abbrev rows_2 : List (List ℕ × Edit × Account)
rows_2 =
    (codes "a b:\nifdef A\n\tx\n", ExchangeLines (OfRuleRun None (codes "a")) [], NotMade 0 (SharedRule 2)) ∷  -- further-50
    (codes "T = <<E\n", ChangeValue (One None) (codes "T") (edits.SetIf (codes "<<E") (codes "x")), Accepted 1 1 (span 4 7 (codes "x") ∷ []) (Becomes (codes "T = x\n"))) ∷  -- further-51
    (codes "a: <<E\n", ChangePrereqs None (codes "a") (ReplacePrereq (codes "<<E") (codes "b")), Accepted 1 1 (span 3 6 (codes "b") ∷ []) (Becomes (codes "a: b\n"))) ∷  -- further-52
    (codes "X = 1\n", ExchangeLines (AtPlace (AfterLastVar (codes "<<E"))) (block_lines (codes "x")), NotMade 1 (BadArgument field.Place)) ∷  -- further-53
    (codes "X = 1\n", ExchangeLines (OfRuleRun None (codes "<<E")) (block_lines (codes "x")), NotMade 1 NoSuch) ∷  -- further-54
    (codes "X = 1\n", ExchangeLines (BeforeRun None (block_lines (codes "X = 1"))) (block_lines (codes "# x")), Accepted 1 0 (span 0 0 (codes "# x\n") ∷ []) (Becomes (codes "# x\nX = 1\n"))) ∷  -- further-55
    (codes ".RECIPEPREFIX = t\nc:\nifdef A\ntx\nendif\n", AddLine (AfterRule None (codes "c")) (NewAssign (codes "t") Recursive (codes "1")), NotMade 1 Straddles) ∷  -- further-56
    (codes ".RECIPEPREFIX = t\nc:\n", AddLine (AfterRule None (codes "c")) (NewAssign (codes "t") Recursive (codes "1")), NotMade 1 RecipePrefix) ∷  -- further-57
    (codes ".RECIPEPREFIX = t\nX = 1\n", AddLine (AfterLastVar (codes "X")) (NewRule (codes "t") Single (codes "a")), NotMade 1 RecipePrefix) ∷  -- further-58
    (codes ".RECIPEPREFIX ?= >\n", ExchangeLines (AtPlace Top) (block_lines (codes ".RECIPEPREFIX = >")), NotMade 1 RecipePrefix) ∷  -- further-59
    (codes ".RECIPEPREFIX ?= >\n", ExchangeLines (AtPlace (AfterLastVar (codes ".RECIPEPREFIX"))) (block_lines (codes "x")), NotMade 1 Reserved) ∷  -- further-60
    (codes "X = 1\n", ExchangeLines (AtPlace Top) (block_lines (codes ".RECIPEPREFIX = >")), NotMade 1 Misread) ∷  -- further-61
    (codes ".RECIPEPREFIX = >\n", ExchangeLines (OfRun None (block_lines (codes ".RECIPEPREFIX = >"))) (block_lines (codes "x")), NotMade 1 Misread) ∷  -- further-62
    (codes ".RECIPEPREFIX = >\n", ExchangeLines (OfRun None (block_lines (codes ".RECIPEPREFIX = >"))) (block_lines (codes ".RECIPEPREFIX = >")), NotMade 1 Already) ∷  -- further-63
    (codes ".RECIPEPREFIX = >\n", ExchangeLines (AtPlace Bottom) (block_lines (codes ".RECIPEPREFIX = >")), NotMade 1 Already) ∷  -- further-64
    (codes "define D\nX\n", ExchangeLines (AtPlace Bottom) (block_lines (codes "X")), NotMade 1 Already) ∷  -- further-65
    (codes "define D\nX\n", ExchangeLines (AtPlace Bottom) (block_lines (codes "Y")), NotMade 1 OpenDefine) ∷  -- further-66
    (codes "define D\nX\n", ExchangeLines (AtPlace Bottom) (block_lines (codes "endef")), NotMade 1 OpenDefine) ∷  -- further-67
    (codes "define D\nx\\", ExchangeLines (AtPlace Bottom) (block_lines (codes "Y")), NotMade 1 OpenLine) ∷  -- further-68
    (codes "X = 1\\", ExchangeLines (AtPlace (AfterLastVar (codes "X"))) (block_lines (codes "endif")), NotMade 1 OpenLine) ∷  -- further-69
    (codes "X = 1\\", AddLine (AfterLastVar (codes "X")) (NewAssign (codes "Y") Recursive (codes "1")), NotMade 1 OpenLine) ∷  -- further-70
    (codes "a:\n\tx\\", ExchangeLines (AtPlace (AfterRule None (codes "a"))) (block_lines (codes "y")), NotMade 1 OpenLine) ∷  -- further-71
    (codes "a:\n\tx\n", ExchangeLines (AfterRun None (block_lines (codes "a:"))) (block_lines (codes "ifdef A\nY = 1")), NotMade 2 Misread) ∷  -- further-72
    (codes "T = a\nT = a\n", ChangeValue (One (Some 3)) (codes "T") (edits.SetIf (codes "b") (codes "c")), NotTried Absent) ∷  -- further-73
    (codes "T = a\nT = b\n", ChangeValue (One (Some 2)) (codes "T") (edits.SetIf (codes "b") (codes "c")), NotTried NoSuch) ∷  -- further-74
    (codes "T = a\nT = b\n", ChangeValue (One (Some 0)) (codes "T") (edits.SetIf (codes "b") (codes "c")), NotTried NoSuch) ∷  -- further-75
    (codes "T = a\nT = b\nT = b\n", ChangeValue (One (Some 2)) (codes "T") (edits.SetIf (codes "b") (codes "c")), Accepted 1 1 (span 16 17 (codes "c") ∷ []) (Becomes (codes "T = a\nT = b\nT = c\n"))) ∷  -- further-76
    (codes "T = b\nT = b\n", ChangeValue (One None) (codes "T") (edits.SetIf (codes "b") (codes "c")), NotTried (Ambiguous 2)) ∷  -- further-77
    (codes "Q = b\n", ChangeValue (One None) (codes "T") (edits.SetIf (codes "b") (codes "c")), NotTried NoSuch) ∷  -- further-78
    (codes "Q = b\n", ChangeValue Every (codes "T") (edits.SetIf (codes "b") (codes "c")), NotTried NoSuch) ∷  -- further-79
    (codes "T = a\n", ChangeValue Every (codes "T") (edits.SetIf (codes "b") (codes "c")), NotTried Absent) ∷  -- further-80
    (codes "F = a b a\n", ChangeLine None (codes "F") (edits.InsertWord After (codes "a") (codes "b")), NotTried Already) ∷  -- further-81
    (codes "F = a b a\n", ChangeLine None (codes "F") (edits.InsertWord After (codes "a") (codes "c")), NotTried (Ambiguous 2)) ∷  -- further-82
    (codes "F = a b a\n", ChangeLine None (codes "F") (edits.InsertWord After (codes "a") (codes "a")), NotTried Already) ∷  -- further-83
    (codes "F = a b a\n", ChangeLine None (codes "F") (edits.InsertWord Before (codes "c") (codes "b")), NotTried Absent) ∷  -- further-84
    (codes "F = a b\nF = a b\n", ChangeLine None (codes "F") (edits.InsertWord After (codes "a") (codes "b")), NotTried (Ambiguous 2)) ∷  -- further-85
    (codes "F = b\n", ChangeLine None (codes "F") (edits.InsertWord After (codes "a") (codes "b")), NotTried Absent) ∷  -- further-86
    (codes "F = a\n", ChangeLine None (codes "F") (edits.InsertWord After (codes "a") (codes "a")), NotTried Already) ∷  -- further-87
    (codes "F = a\nF = a\n", ChangeLine None (codes "F") (edits.InsertWord After (codes "a") (codes "b")), NotTried (Ambiguous 2)) ∷  -- further-88
    (codes "# override \\\n X = 1\n", SwitchLine Uncomment None (codes "X"), NotTried NoSuch) ∷  -- further-89
    (codes "#export = 1\n", SwitchLine Uncomment None (codes "export"), Accepted 1 1 (span 0 1 [] ∷ []) (Becomes (codes "export = 1\n"))) ∷  -- further-90
    (codes "# override override = 1\n", SwitchLine Uncomment None (codes "override"), Accepted 1 1 (span 0 2 [] ∷ []) (Becomes (codes "override override = 1\n"))) ∷  -- further-91
    (codes "#exportF = 1\n", SwitchLine Uncomment None (codes "F"), NotTried NoSuch) ∷  -- further-92
    (codes "  #\texport\tprivate F = 1\n", SwitchLine Uncomment None (codes "F"), Accepted 1 1 (span 2 4 [] ∷ []) (Becomes (codes "  export\tprivate F = 1\n"))) ∷  -- further-93
    (codes "## F = 1\n", SwitchLine Uncomment None (codes "F"), NotTried NoSuch) ∷  -- further-94
    (codes "\t# F = 1\n", SwitchLine Uncomment None (codes "F"), Accepted 1 1 (span 1 3 [] ∷ []) (Becomes (codes "\tF = 1\n"))) ∷  -- further-95
    (codes "a:\n\t# F = 1\n", SwitchLine Uncomment None (codes "F"), NotTried NoSuch) ∷  -- further-96
    (codes "a:\n# F = 1\n\tx\n", SwitchLine Uncomment None (codes "F"), NotTried Leans) ∷  -- further-97
    (codes "# F = a\0\n", SwitchLine Uncomment None (codes "F"), NotMade 1 Misread) ∷  -- further-98
    (codes "# F = a\\\\ \\\n b\n", SwitchLine Uncomment None (codes "F"), NotMade 1 Misread) ∷  -- further-99
    []

answers_2 : map (λ row. account row.0 row.1) rows_2 ≡ map (λ row. row.2) rows_2
answers_2 = refl

abbrev rows_3 : List (List ℕ × Edit × Account)
rows_3 =
    (codes "#F \\\n= 1\n", SwitchLine Uncomment None (codes "F"), NotTried NoSuch) ∷  -- further-100
    (codes ".RECIPEPREFIX = X\n#X = 1\n", SwitchLine Uncomment None (codes "X"), Accepted 1 1 (span 18 19 [] ∷ []) (Becomes (codes ".RECIPEPREFIX = X\nX = 1\n"))) ∷  -- further-101
    (codes ".RECIPEPREFIX = X\na:\n#X = 1\n", SwitchLine Uncomment None (codes "X"), NotMade 1 Misread) ∷  -- further-102
    (codes "a:\nX = 1\n\tY = 2\n", SwitchLine CommentOut None (codes "X"), NotTried Leans) ∷  -- further-103
    (codes "\\\nX = 1\n", SwitchLine CommentOut None (codes "X"), Accepted 1 1 (span 0 0 (codes "#") ∷ []) (Becomes (codes "#\\\nX = 1\n"))) ∷  -- further-104
    (codes "S = a \\\r\n  b\tc\n", ChangeLine None (codes "S") (edits.InsertWord After (codes "a") (codes "x")), Accepted 1 1 (span 5 5 (codes " \\\r\n  x") ∷ []) (Becomes (codes "S = a \\\r\n  x \\\r\n  b\tc\n"))) ∷  -- further-105
    (codes "S = a \\\r\n  b\tc\n", ChangeLine None (codes "S") (edits.InsertWord Before (codes "b") (codes "x")), Accepted 1 1 (span 11 11 (codes "x \\\r\n  ") ∷ []) (Becomes (codes "S = a \\\r\n  x \\\r\n  b\tc\n"))) ∷  -- further-106
    (codes "S = a \\\r\n  b\tc\n", ChangeLine None (codes "S") (edits.InsertWord After (codes "b") (codes "x")), Accepted 1 1 (span 12 12 (codes "\tx") ∷ []) (Becomes (codes "S = a \\\r\n  b\tx\tc\n"))) ∷  -- further-107
    (codes "S = a \\\r\n  b\tc\n", ChangeLine None (codes "S") (edits.InsertWord After (codes "c") (codes "x")), Accepted 1 1 (span 14 14 (codes "\tx") ∷ []) (Becomes (codes "S = a \\\r\n  b\tc\tx\n"))) ∷  -- further-108
    (codes "S = \\\n\ta\n", ChangeLine None (codes "S") (edits.InsertWord After (codes "a") (codes "x")), Accepted 1 1 (span 8 8 (codes " x") ∷ []) (Becomes (codes "S = \\\n\ta x\n"))) ∷  -- further-109
    (codes "S = \\\n\ta\n", ChangeLine None (codes "S") (edits.InsertWord Before (codes "a") (codes "x")), Accepted 1 1 (span 7 7 (codes "x ") ∷ []) (Becomes (codes "S = \\\n\tx a\n"))) ∷  -- further-110
    (codes "S = a\\\nb # c\n", ChangeLine None (codes "S") (edits.InsertWord Before (codes "a") (codes "x")), Accepted 1 1 (span 4 4 (codes "x\\\n") ∷ []) (Becomes (codes "S = x\\\na\\\nb # c\n"))) ∷  -- further-111
    (codes "S = a\\\nb\\\n# c\n", ChangeLine None (codes "S") (edits.InsertWord After (codes "b") (codes "x")), Accepted 1 1 (span 8 8 (codes "\\\nx") ∷ []) (Becomes (codes "S = a\\\nb\\\nx\\\n# c\n"))) ∷  -- further-112
    (codes "S = a\\  b\n", ChangeLine None (codes "S") (edits.InsertWord Before (codes "b") (codes "x")), Accepted 1 1 (span 8 8 (codes "x ") ∷ []) (Becomes (codes "S = a\\  x b\n"))) ∷  -- further-113
    (codes "S = $(w \\\n a)  b\n", ChangeLine None (codes "S") (edits.InsertWord After (codes "$(w a)") (codes "x")), Accepted 1 1 (span 13 13 (codes "  x") ∷ []) (Becomes (codes "S = $(w \\\n a)  x  b\n"))) ∷  -- further-114
    (codes "S = a \\\n \\\n b\n", ChangeLine None (codes "S") (edits.InsertWord After (codes "b") (codes "x")), Accepted 1 1 (span 13 13 (codes " \\\n \\\n x") ∷ []) (Becomes (codes "S = a \\\n \\\n b \\\n \\\n x\n"))) ∷  -- further-115
    (codes "S = a b\\", ChangeLine None (codes "S") (edits.InsertWord Before (codes "a") (codes "x")), Accepted 1 1 (span 4 4 (codes "x ") ∷ []) (Becomes (codes "S = x a b\\"))) ∷  -- further-116
    (codes "S =\n", ChangeLine None (codes "S") (edits.InsertWord After (codes "a") (codes "b")), NotTried Absent) ∷  -- further-117
    (codes "S = a\n", ChangeLine None (codes "S") (edits.InsertWord After (codes "a") (codes "b c")), NotTried (BadArgument field.New)) ∷  -- further-118
    (codes "S = a\n", ChangeLine None (codes "S") (edits.InsertWord After [] (codes "b")), NotTried (BadArgument field.Word)) ∷  -- further-119
    (codes "F = b$ # c\n", ChangeLine None (codes "F") (edits.Substitute (codes "b") (codes "c")), Accepted 1 1 (span 4 5 (codes "c") ∷ []) (Becomes (codes "F = c$ # c\n"))) ∷  -- further-120
    (codes "F = a\\ \n", ChangeLine None (codes "F") (edits.Substitute (codes "a") (codes "x")), Accepted 1 1 (span 4 5 (codes "x") ∷ []) (Becomes (codes "F = x\\ \n"))) ∷  -- further-121
    (codes "F = a x\n", ChangeLine None (codes "F") (edits.Substitute (codes "x") []), Accepted 1 1 (span 6 7 [] ∷ []) (Becomes (codes "F = a \n"))) ∷  -- further-122
    (codes "F = a\n", ChangeLine None (codes "F") (edits.Substitute (codes "a") (codes " ")), Accepted 1 1 (span 4 5 (codes " ") ∷ []) (Becomes (codes "F =  \n"))) ∷  -- further-123
    (codes "F = a\\\\\n", ChangeLine None (codes "F") (edits.Substitute (codes "a") []), Accepted 1 1 (span 4 5 [] ∷ []) (Becomes (codes "F = \\\\\n"))) ∷  -- further-124
    (codes "F = a\\ b\n", ChangeLine None (codes "F") (edits.Substitute (codes "b") []), Accepted 1 1 (span 7 8 [] ∷ []) (Becomes (codes "F = a\\ \n"))) ∷  -- further-125
    (codes "F = b\n", ChangeLine None (codes "F") (edits.Substitute (codes "b") (codes " c")), Accepted 1 1 (span 4 5 (codes " c") ∷ []) (Becomes (codes "F =  c\n"))) ∷  -- further-126
    (codes "F = a \\\n b\n", ChangeLine None (codes "F") (edits.Substitute (codes "b") (codes " c")), NotMade 1 Misread) ∷  -- further-127
    (codes "F = \\\na", ChangeLine None (codes "F") (edits.Substitute (codes "a") []), NotMade 1 Misread) ∷  -- further-128
    (codes "F = a \\\n b\n", ChangeLine None (codes "F") (edits.Substitute (codes " ") (codes ":")), Accepted 1 1 (span 5 9 (codes ":") ∷ []) (Becomes (codes "F = a:b\n"))) ∷  -- further-129
    (codes "F = aaa\n", ChangeLine None (codes "F") (edits.Substitute (codes "aa") (codes "b")), Accepted 1 1 (span 4 6 (codes "b") ∷ []) (Becomes (codes "F = ba\n"))) ∷  -- further-130
    (codes "F = a\n", ChangeLine None (codes "F") (edits.Substitute (codes "a") (codes "\\")), NotMade 1 Misread) ∷  -- further-131
    (codes "F = a b\n", ChangeLine None (codes "F") (edits.Substitute (codes "a") (codes "\\")), Accepted 1 1 (span 4 5 (codes "\\") ∷ []) (Becomes (codes "F = \\ b\n"))) ∷  -- further-132
    (codes "X = \\\nb", ChangeValue (One None) (codes "X") (edits.SetIf (codes "b") []), Accepted 1 1 (span 6 7 [] ∷ []) (Becomes (codes "X = \\\n"))) ∷  -- further-133
    (codes "X = b # c\n", ChangeValue (One None) (codes "X") (edits.SetIf (codes "b") []), Accepted 1 1 (span 4 6 [] ∷ []) (Becomes (codes "X = # c\n"))) ∷  -- further-134
    (codes "X = a \\\n b\n", ChangeValue (One None) (codes "X") (edits.SetIf (codes "a b") (codes "c")), Accepted 1 1 (span 4 10 (codes "c") ∷ []) (Becomes (codes "X = c\n"))) ∷  -- further-135
    (codes "X = a  b\n", ChangeValue (One None) (codes "X") (edits.SetIf (codes "a b") (codes "c")), NotTried Absent) ∷  -- further-136
    (codes "X =\nX = a\n", ChangeValue (One None) (codes "X") (edits.SetIf [] (codes "b")), Accepted 1 1 (span 3 3 (codes "b") ∷ []) (Becomes (codes "X =b\nX = a\n"))) ∷  -- further-137
    (codes "X = a\n", ChangeValue (One None) (codes "X") (edits.SetIf (codes "a") (codes "a")), Accepted 1 1 (span 4 5 (codes "a") ∷ []) (Becomes (codes "X = a\n"))) ∷  -- further-138
    (codes "X = a\nX := a\nX = b\n", ChangeValue Every (codes "X") (edits.SetIf (codes "a") (codes "c")), Accepted 2 2 (span 4 5 (codes "c") ∷ span 11 12 (codes "c") ∷ []) (Becomes (codes "X = c\nX := c\nX = b\n"))) ∷  -- further-139
    (codes "X = a\n", ChangeValue (One None) (codes "X") (edits.SetIf (codes "a ") (codes "b")), NotTried (BadArgument field.Old)) ∷  -- further-140
    (codes "X = a\n", ChangeValue (One None) (codes "X") (edits.SetIf (codes "a") (codes " b")), NotTried (BadArgument field.Value)) ∷  -- further-141
    (codes "t:\n\tx\nifdef A\n\ty\nelse\n\tz\nendif\n# n\nX = 1\n", ExchangeLines (OfRuleRun None (codes "t")) [], Accepted 0 7 (span 0 31 [] ∷ []) (Becomes (codes "# n\nX = 1\n"))) ∷  -- further-142
    (codes "t:\n\tx\nifdef A\n\ty\nelse\n# n\n\nendif\n", ExchangeLines (OfRuleRun None (codes "t")) [], Accepted 0 8 (span 0 33 [] ∷ []) (Becomes [])) ∷  -- further-143
    (codes "t:\n\tx\nifdef A\n\ty\nX = 1\nendif\n", ExchangeLines (OfRuleRun None (codes "t")) [], NotMade 0 Straddles) ∷  -- further-144
    (codes "t:\n\tx\nifdef A\n\ty\n", ExchangeLines (OfRuleRun None (codes "t")) [], NotMade 0 Straddles) ∷  -- further-145
    (codes "t:\nifdef A\nX = 1\nendif\n", ExchangeLines (OfRuleRun None (codes "t")) [], Accepted 0 1 (span 0 3 [] ∷ []) (Becomes (codes "ifdef A\nX = 1\nendif\n"))) ∷  -- further-146
    (codes "ifdef A\nt:\n\tx\nendif\nifdef A\n\ty\nendif\n", ExchangeLines (OfRuleRun None (codes "t")) [], NotMade 0 Straddles) ∷  -- further-147
    (codes "ifdef A\nt:\n\tx\nendif\n", ExchangeLines (OfRuleRun None (codes "t")) [], Accepted 0 2 (span 8 14 [] ∷ []) (Becomes (codes "ifdef A\nendif\n"))) ∷  -- further-148
    (codes "t:\nifdef A\nifdef B\n\tx\nendif\nelse\n\ty\nendif\n\tz\nX = 1\n", ExchangeLines (OfRuleRun None (codes "t")) [], Accepted 0 9 (span 0 45 [] ∷ []) (Becomes (codes "X = 1\n"))) ∷  -- further-149
    []

answers_3 : map (λ row. account row.0 row.1) rows_3 ≡ map (λ row. row.2) rows_3
answers_3 = refl

abbrev rows_4 : List (List ℕ × Edit × Account)
rows_4 =
    (codes "t:\nifdef A\n\tx\nendif\nifdef B\nendif\n", ExchangeLines (OfRuleRun None (codes "t")) [], Accepted 0 4 (span 0 20 [] ∷ []) (Becomes (codes "ifdef B\nendif\n"))) ∷  -- further-150
    (codes "t: ; x\n# n\n\ty\n", ExchangeLines (OfRuleRun None (codes "t")) [], Accepted 0 3 (span 0 14 [] ∷ []) (Becomes [])) ∷  -- further-151
    (codes "t:\nifdef A\n\tx\n\ty\nendif\n", ExchangeLines (AtPlace (AfterRule None (codes "t"))) (block_lines (codes "z")), NotMade 1 Straddles) ∷  -- further-152
    (codes "t:\nifdef A\nendif\n", ExchangeLines (AtPlace (AfterRule None (codes "t"))) (block_lines (codes "z")), Accepted 1 0 (span 3 3 (codes "z\n") ∷ []) (Becomes (codes "t:\nz\nifdef A\nendif\n"))) ∷  -- further-153
    (codes "t:\nX = 1\n", ExchangeLines (OfRuleRun None (codes "include")) [], NotMade 0 Reserved) ∷  -- further-154
    (codes "t:\n\tx\n", ExchangeLines (OfRuleRun None (codes "t")) (block_lines (codes "ifdef A\nt:\n\tx")), NotMade 3 Misread) ∷  -- further-155
    (codes "t:\n\tx\n", ExchangeLines (OfRuleRun None (codes "t")) (block_lines (codes "t:\n\tx")), NotMade 2 Already) ∷  -- further-156
    (codes "t:\n\tx\nt:\n\ty\n", ExchangeLines (OfRuleRun None (codes "t")) [], NotMade 0 (Ambiguous 2)) ∷  -- further-157
    (codes "t:\n\tx\nt:\n\ty\n", ExchangeLines (OfRuleRun (Some 2) (codes "t")) (block_lines (codes "t:")), Accepted 1 2 (span 6 12 (codes "t:\n") ∷ []) (Becomes (codes "t:\n\tx\nt:\n"))) ∷  -- further-158
    (codes "t:\n\tx\nX = x\nt:\n\tx\n", EachLine (SubstRecipe None (codes "t") (codes "x") (codes "y")), Accepted 2 2 (span 4 5 (codes "y") ∷ span 16 17 (codes "y") ∷ []) (Becomes (codes "t:\n\ty\nX = x\nt:\n\ty\n"))) ∷  -- further-159
    (codes "t:\n\tx\nt:\n\tx\n", EachLine (SubstRecipe (Some 2) (codes "t") (codes "x") (codes "y")), Accepted 1 1 (span 10 11 (codes "y") ∷ []) (Becomes (codes "t:\n\tx\nt:\n\ty\n"))) ∷  -- further-160
    (codes "t:\n\tx\nt:\n\tx\n", EachLine (SubstRecipe (Some 3) (codes "t") (codes "x") (codes "y")), NotTried NoSuch) ∷  -- further-161
    (codes "t:\n\tx\nt:\n\ty\n", EachLine (SubstRecipe (Some 2) (codes "t") (codes "x") (codes "y")), NotTried Absent) ∷  -- further-162
    (codes "t:\n\ta\rb\n", EachLine (SubstRecipe None (codes "t") (codes "b") []), NotMade 1 Misread) ∷  -- further-163
    (codes "i: ; cc -s\n", EachLine (SubstRecipe None (codes "i") (codes " -s") []), NotTried Absent) ∷  -- further-164
    (codes "i:\n\tx\n", EachLine (SubstRecipe None (codes "i") (codes "x") (codes "x")), Accepted 1 1 (span 4 5 (codes "x") ∷ []) (Becomes (codes "i:\n\tx\n"))) ∷  -- further-165
    (codes "X\nY\r\n", ExchangeLines (OfRun None (block_lines (codes "Y"))) (block_lines (codes "Z")), Accepted 1 1 (span 2 5 (codes "Z\r\n") ∷ []) (Becomes (codes "X\nZ\r\n"))) ∷  -- further-166
    (codes "X\r\nY\n", ExchangeLines (OfRun None (block_lines (codes "Y"))) (block_lines (codes "Z\nZ")), Accepted 2 1 (span 3 5 (codes "Z\nZ\n") ∷ []) (Becomes (codes "X\r\nZ\nZ\n"))) ∷  -- further-167
    (codes "X\r\nY", ExchangeLines (OfRun None (block_lines (codes "Y"))) (block_lines (codes "Z\nZ")), Accepted 2 1 (span 3 4 (codes "Z\r\nZ") ∷ []) (Becomes (codes "X\r\nZ\r\nZ"))) ∷  -- further-168
    (codes "X\r\nY", ExchangeLines (OfRun None (block_lines (codes "Y"))) (block_lines (codes "Z\n")), Accepted 2 1 (span 3 4 (codes "Z\r\n\r\n") ∷ []) (Becomes (codes "X\r\nZ\r\n\r\n"))) ∷  -- further-169
    (codes "X", ExchangeLines (OfRun None (block_lines (codes "X"))) (block_lines []), Accepted 1 1 (span 0 1 (codes "\n") ∷ []) (Becomes (codes "\n"))) ∷  -- further-170
    (codes "a:\nX", ExchangeLines (OfRun None (block_lines (codes "X"))) (block_lines (codes "Y = 1 \\\n")), Accepted 1 1 (span 3 4 (codes "Y = 1 \\\n\n") ∷ []) (Becomes (codes "a:\nY = 1 \\\n\n"))) ∷  -- further-171
    (codes "a:\n\tx\r\n", ExchangeLines (OfRuleRun None (codes "a")) (block_lines (codes "a:\n\ty")), Accepted 2 2 (span 0 7 (codes "a:\r\n\ty\r\n") ∷ []) (Becomes (codes "a:\r\n\ty\r\n"))) ∷  -- further-172
    (codes "X\nY", ExchangeLines (OfRun None (block_lines (codes "Y"))) [], Accepted 0 1 (span 2 3 [] ∷ []) (Becomes (codes "X\n"))) ∷  -- further-173
    (codes "X\r\nY\n", ExchangeLines (AtPlace Bottom) (block_lines (codes "Z")), Accepted 1 0 (span 5 5 (codes "Z\r\n") ∷ []) (Becomes (codes "X\r\nY\nZ\r\n"))) ∷  -- further-174
    ([], ExchangeLines (AtPlace Bottom) (block_lines (codes "X")), Accepted 1 0 (span 0 0 (codes "X\n") ∷ []) (Becomes (codes "X\n"))) ∷  -- further-175
    ([], ExchangeLines (AtPlace Top) (block_lines []), Accepted 1 0 (span 0 0 (codes "\n") ∷ []) (Becomes (codes "\n"))) ∷  -- further-176
    (codes "X \\\nY\n", ExchangeLines (OfRun None (block_lines (codes "Y"))) [], NotMade 0 NoSuch) ∷  -- further-177
    (codes "X\nX\nX\n", ExchangeLines (OfRun None (block_lines (codes "X\nX"))) [], NotMade 0 (Ambiguous 2)) ∷  -- further-178
    (codes "a\n\nb\n", ExchangeLines (AfterRun None (block_lines (codes "a"))) (block_lines []), NotMade 1 Already) ∷  -- further-179
    (codes "X = 1", ExchangeLines (AtPlace Bottom) (block_lines (codes "X = 1")), NotMade 1 Already) ∷  -- further-180
    (codes "b:\n\ty\na:\n\tx\n", ExchangeLines (OfRun None (block_lines (codes "a:"))) [], Accepted 0 1 (span 6 9 [] ∷ []) (Becomes (codes "b:\n\ty\n\tx\n"))) ∷  -- further-181
    (codes "a:\n\tx\n\ty\n", ExchangeLines (AfterRun None (block_lines (codes "\tx"))) (block_lines (codes "b:")), Accepted 1 0 (span 6 6 (codes "b:\n") ∷ []) (Becomes (codes "a:\n\tx\nb:\n\ty\n"))) ∷  -- further-182
    (codes "\tX = 1\n", AddLine Top (NewRule (codes "a") Single (codes "b")), NotMade 1 Leans) ∷  -- further-183
    (codes "\tX = 1\n", ExchangeLines (AtPlace Top) (block_lines (codes "a:")), NotMade 1 Leans) ∷  -- further-184
    (codes "ifdef A\nifdef A\nifdef A\nifdef A\nifdef A\nifdef A\nifdef A\nifdef A\nifdef A\nifdef A\nifdef A\nifdef A\nifdef A\nifdef A\nifdef A\nifdef A\nifdef A\nifdef A\nifdef A\nifdef A\nifdef A\nifdef A\nifdef A\nifdef A\nifdef A\nifdef A\nifdef A\nifdef A\nifdef A\nifdef A\nifdef A\nifdef A\nifdef A\nifdef A\nifdef A\nifdef A\nifdef A\nifdef A\nifdef A\nifdef A\nifdef A\nifdef A\nifdef A\nifdef A\nifdef A\nifdef A\nifdef A\nifdef A\nifdef A\nifdef A\nifdef A\nifdef A\nifdef A\nifdef A\nifdef A\nifdef A\nifdef A\nifdef A\nifdef A\nifdef A\nifdef A\nifdef A\nifdef A\nifdef A\nifdef A\nifdef A\nifdef A\nifdef A\nifdef A\nifdef A\nifdef A\nifdef A\nifdef A\nifdef A\nifdef A\nifdef A\nifdef A\nifdef A\nifdef A\nifdef A\nifdef A\nifdef A\nifdef A\nifdef A\nifdef A\nifdef A\nifdef A\nifdef A\nifdef A\nifdef A\nifdef A\nifdef A\nifdef A\nifdef A\nifdef A\nifdef A\nifdef A\nifdef A\nifdef A\nifdef A\nifdef A\nifdef A\nifdef A\nifdef A\nifdef A\nifdef A\nifdef A\nifdef A\nifdef A\nifdef A\nifdef A\nifdef A\nifdef A\nifdef A\nifdef A\nifdef A\nifdef A\nifdef A\nifdef A\nifdef A\nifdef A\nifdef A\nifdef A\nifdef A\nifdef A\nifdef A\nifdef A\nifdef A\nifdef A\nifdef A\nifdef A\nifdef A\nifdef A\nifdef A\nifdef A\nifdef A\nifdef A\nifdef A\nifdef A\nifdef A\nifdef A\nifdef A\nifdef A\nifdef A\nifdef A\nifdef A\nifdef A\nifdef A\nifdef A\nifdef A\nifdef A\nifdef A\nifdef A\nifdef A\nifdef A\nifdef A\nifdef A\nifdef A\nifdef A\nifdef A\nifdef A\nifdef A\nifdef A\nifdef A\nifdef A\nifdef A\nifdef A\nifdef A\nifdef A\nifdef A\nifdef A\nifdef A\nifdef A\nifdef A\nifdef A\nifdef A\nifdef A\nifdef A\nifdef A\nifdef A\nifdef A\nifdef A\nifdef A\nifdef A\nifdef A\nifdef A\nifdef A\nifdef A\nifdef A\nifdef A\nifdef A\nifdef A\nifdef A\nifdef A\nifdef A\nifdef A\nifdef A\nifdef A\nifdef A\nifdef A\nifdef A\nifdef A\nifdef A\nifdef A\nifdef A\nifdef A\nifdef A\nifdef A\nifdef A\nifdef A\nifdef A\nifdef A\nifdef A\nifdef A\nifdef A\nifdef A\nifdef A\nifdef A\nifdef A\nifdef A\nifdef A\nifdef A\nifdef A\nifdef A\nifdef A\nifdef A\nifdef A\nifdef A\nifdef A\nifdef A\nifdef A\nifdef A\nifdef A\nifdef A\nifdef A\nifdef A\nifdef A\nifdef A\nifdef A\nifdef A\nifdef A\nifdef A\nifdef A\nifdef A\nifdef A\nifdef A\nifdef A\nifdef A\nifdef A\nifdef A\nifdef A\nifdef A\nifdef A\nifdef A\nifdef A\nX = 1\n", ExchangeLines (OfRun None (block_lines (codes "X = 1"))) (block_lines (codes "ifdef B\nX = 1\nendif")), Accepted 3 1 (span 2040 2046 (codes "ifdef B\nX = 1\nendif\n") ∷ []) (Becomes (codes "ifdef A\nifdef A\nifdef A\nifdef A\nifdef A\nifdef A\nifdef A\nifdef A\nifdef A\nifdef A\nifdef A\nifdef A\nifdef A\nifdef A\nifdef A\nifdef A\nifdef A\nifdef A\nifdef A\nifdef A\nifdef A\nifdef A\nifdef A\nifdef A\nifdef A\nifdef A\nifdef A\nifdef A\nifdef A\nifdef A\nifdef A\nifdef A\nifdef A\nifdef A\nifdef A\nifdef A\nifdef A\nifdef A\nifdef A\nifdef A\nifdef A\nifdef A\nifdef A\nifdef A\nifdef A\nifdef A\nifdef A\nifdef A\nifdef A\nifdef A\nifdef A\nifdef A\nifdef A\nifdef A\nifdef A\nifdef A\nifdef A\nifdef A\nifdef A\nifdef A\nifdef A\nifdef A\nifdef A\nifdef A\nifdef A\nifdef A\nifdef A\nifdef A\nifdef A\nifdef A\nifdef A\nifdef A\nifdef A\nifdef A\nifdef A\nifdef A\nifdef A\nifdef A\nifdef A\nifdef A\nifdef A\nifdef A\nifdef A\nifdef A\nifdef A\nifdef A\nifdef A\nifdef A\nifdef A\nifdef A\nifdef A\nifdef A\nifdef A\nifdef A\nifdef A\nifdef A\nifdef A\nifdef A\nifdef A\nifdef A\nifdef A\nifdef A\nifdef A\nifdef A\nifdef A\nifdef A\nifdef A\nifdef A\nifdef A\nifdef A\nifdef A\nifdef A\nifdef A\nifdef A\nifdef A\nifdef A\nifdef A\nifdef A\nifdef A\nifdef A\nifdef A\nifdef A\nifdef A\nifdef A\nifdef A\nifdef A\nifdef A\nifdef A\nifdef A\nifdef A\nifdef A\nifdef A\nifdef A\nifdef A\nifdef A\nifdef A\nifdef A\nifdef A\nifdef A\nifdef A\nifdef A\nifdef A\nifdef A\nifdef A\nifdef A\nifdef A\nifdef A\nifdef A\nifdef A\nifdef A\nifdef A\nifdef A\nifdef A\nifdef A\nifdef A\nifdef A\nifdef A\nifdef A\nifdef A\nifdef A\nifdef A\nifdef A\nifdef A\nifdef A\nifdef A\nifdef A\nifdef A\nifdef A\nifdef A\nifdef A\nifdef A\nifdef A\nifdef A\nifdef A\nifdef A\nifdef A\nifdef A\nifdef A\nifdef A\nifdef A\nifdef A\nifdef A\nifdef A\nifdef A\nifdef A\nifdef A\nifdef A\nifdef A\nifdef A\nifdef A\nifdef A\nifdef A\nifdef A\nifdef A\nifdef A\nifdef A\nifdef A\nifdef A\nifdef A\nifdef A\nifdef A\nifdef A\nifdef A\nifdef A\nifdef A\nifdef A\nifdef A\nifdef A\nifdef A\nifdef A\nifdef A\nifdef A\nifdef A\nifdef A\nifdef A\nifdef A\nifdef A\nifdef A\nifdef A\nifdef A\nifdef A\nifdef A\nifdef A\nifdef A\nifdef A\nifdef A\nifdef A\nifdef A\nifdef A\nifdef A\nifdef A\nifdef A\nifdef A\nifdef A\nifdef A\nifdef A\nifdef A\nifdef A\nifdef A\nifdef A\nifdef A\nifdef A\nifdef A\nifdef A\nifdef A\nifdef A\nifdef A\nifdef A\nifdef A\nifdef A\nifdef A\nifdef A\nifdef A\nifdef A\nifdef A\nifdef B\nX = 1\nendif\n"))) ∷  -- further-185
    (codes "ifdef A\nifdef A\nifdef A\nifdef A\nifdef A\nifdef A\nifdef A\nifdef A\nifdef A\nifdef A\nifdef A\nifdef A\nifdef A\nifdef A\nifdef A\nifdef A\nifdef A\nifdef A\nifdef A\nifdef A\nifdef A\nifdef A\nifdef A\nifdef A\nifdef A\nifdef A\nifdef A\nifdef A\nifdef A\nifdef A\nifdef A\nifdef A\nifdef A\nifdef A\nifdef A\nifdef A\nifdef A\nifdef A\nifdef A\nifdef A\nifdef A\nifdef A\nifdef A\nifdef A\nifdef A\nifdef A\nifdef A\nifdef A\nifdef A\nifdef A\nifdef A\nifdef A\nifdef A\nifdef A\nifdef A\nifdef A\nifdef A\nifdef A\nifdef A\nifdef A\nifdef A\nifdef A\nifdef A\nifdef A\nifdef A\nifdef A\nifdef A\nifdef A\nifdef A\nifdef A\nifdef A\nifdef A\nifdef A\nifdef A\nifdef A\nifdef A\nifdef A\nifdef A\nifdef A\nifdef A\nifdef A\nifdef A\nifdef A\nifdef A\nifdef A\nifdef A\nifdef A\nifdef A\nifdef A\nifdef A\nifdef A\nifdef A\nifdef A\nifdef A\nifdef A\nifdef A\nifdef A\nifdef A\nifdef A\nifdef A\nifdef A\nifdef A\nifdef A\nifdef A\nifdef A\nifdef A\nifdef A\nifdef A\nifdef A\nifdef A\nifdef A\nifdef A\nifdef A\nifdef A\nifdef A\nifdef A\nifdef A\nifdef A\nifdef A\nifdef A\nifdef A\nifdef A\nifdef A\nifdef A\nifdef A\nifdef A\nifdef A\nifdef A\nifdef A\nifdef A\nifdef A\nifdef A\nifdef A\nifdef A\nifdef A\nifdef A\nifdef A\nifdef A\nifdef A\nifdef A\nifdef A\nifdef A\nifdef A\nifdef A\nifdef A\nifdef A\nifdef A\nifdef A\nifdef A\nifdef A\nifdef A\nifdef A\nifdef A\nifdef A\nifdef A\nifdef A\nifdef A\nifdef A\nifdef A\nifdef A\nifdef A\nifdef A\nifdef A\nifdef A\nifdef A\nifdef A\nifdef A\nifdef A\nifdef A\nifdef A\nifdef A\nifdef A\nifdef A\nifdef A\nifdef A\nifdef A\nifdef A\nifdef A\nifdef A\nifdef A\nifdef A\nifdef A\nifdef A\nifdef A\nifdef A\nifdef A\nifdef A\nifdef A\nifdef A\nifdef A\nifdef A\nifdef A\nifdef A\nifdef A\nifdef A\nifdef A\nifdef A\nifdef A\nifdef A\nifdef A\nifdef A\nifdef A\nifdef A\nifdef A\nifdef A\nifdef A\nifdef A\nifdef A\nifdef A\nifdef A\nifdef A\nifdef A\nifdef A\nifdef A\nifdef A\nifdef A\nifdef A\nifdef A\nifdef A\nifdef A\nifdef A\nifdef A\nifdef A\nifdef A\nifdef A\nifdef A\nifdef A\nifdef A\nifdef A\nifdef A\nifdef A\nifdef A\nifdef A\nifdef A\nifdef A\nifdef A\nifdef A\nifdef A\nifdef A\nifdef A\nifdef A\nifdef A\nifdef A\nifdef A\nifdef A\nifdef A\nifdef A\nifdef A\nifdef A\nifdef A\nifdef A\nifdef A\nifdef A\nifdef A\nifdef A\nifdef A\nX = 1\n", ExchangeLines (OfRun None (block_lines (codes "X = 1"))) (block_lines (codes "ifdef B\nX = 1\nendif")), NotMade 3 Misread) ∷  -- further-186
    (codes "a:\n\tx\nX = 1\nX = 2\n\tY = 3\n", AddLine (AfterLastVar (codes "X")) (NewRule (codes "b") Single (codes "c")), NotMade 1 Leans) ∷  -- further-187
    (codes "X = 1\n", ExchangeLines (AtPlace Top) (block_lines []), Accepted 1 0 (span 0 0 (codes "\n") ∷ []) (Becomes (codes "\nX = 1\n"))) ∷  -- further-188
    (codes "X = 1\n", ExchangeLines (AtPlace Top) (block_lines (codes "<<E")), Accepted 1 0 (span 0 0 (codes "<<E\n") ∷ []) (Becomes (codes "<<E\nX = 1\n"))) ∷  -- further-189
    (codes "X = 1\n", ExchangeLines (AtPlace Top) (block_lines (codes "<<E-F")), Accepted 1 0 (span 0 0 (codes "<<E-F\n") ∷ []) (Becomes (codes "<<E-F\nX = 1\n"))) ∷  -- further-190
    (codes "X = 1\n", ExchangeLines (AtPlace Top) (block_lines (codes "# c\nset X\nE ")), Accepted 3 0 (span 0 0 (codes "# c\nset X\nE \n") ∷ []) (Becomes (codes "# c\nset X\nE \nX = 1\n"))) ∷  -- further-191
    (codes "X = 1\n", ExchangeLines (AtPlace Top) (block_lines (codes "x")), Accepted 1 0 (span 0 0 (codes "x\n") ∷ []) (Becomes (codes "x\nX = 1\n"))) ∷  -- further-192
    (codes "<<E: a\n", ExchangeLines (AtPlace (AfterRule None (codes "<<E"))) (block_lines (codes "b:")), Accepted 1 0 (span 7 7 (codes "b:\n") ∷ []) (Becomes (codes "<<E: a\nb:\n"))) ∷  -- further-193
    (codes "X = 1\n", ChangeValue (One None) (codes "X") (edits.Set (codes "<<E")), Accepted 1 1 (span 4 5 (codes "<<E") ∷ []) (Becomes (codes "X = <<E\n"))) ∷  -- further-194
    (codes "X = 1\n", ExchangeLines (AtPlace Top) (block_lines (codes "a\\\n")), Accepted 1 0 (span 0 0 (codes "a\\\n\n") ∷ []) (Becomes (codes "a\\\n\nX = 1\n"))) ∷  -- further-195
    (codes "X = 1\n", ExchangeLines (AtPlace Top) (block_lines (codes "a\\")), NotMade 1 (BadArgument field.Block)) ∷  -- further-196
    (codes "X = 1\n", ExchangeLines (BeforeRun None (block_lines (codes "a\\"))) (block_lines (codes "x")), NotMade 1 (BadArgument field.Place)) ∷  -- further-197
    (codes "X = 1\n", ExchangeLines (OfRun None (block_lines (codes "a\\"))) [], NotMade 0 (BadArgument field.Old)) ∷  -- further-198
    (codes "X = 1\n", ExchangeLines (OfRuleRun None (codes "a&")) (block_lines (codes "x")), NotMade 1 (BadArgument field.Target)) ∷  -- further-199
    []

answers_4 : map (λ row. account row.0 row.1) rows_4 ≡ map (λ row. row.2) rows_4
answers_4 = refl

abbrev rows_5 : List (List ℕ × Edit × Account)
rows_5 =
    (codes "X = 1\n", ExchangeLines (AtPlace Top) (block_lines (codes "a\rb")), NotMade 1 (BadArgument field.Block)) ∷  -- further-200
    (codes "a: b\n", ExchangeLines (AtPlace (AfterRule (Some 1) (codes "a"))) (block_lines (codes "x")), Accepted 1 0 (span 5 5 (codes "x\n") ∷ []) (Becomes (codes "a: b\nx\n"))) ∷  -- further-201
    (codes "X = 1\n", ExchangeLines (BeforeRun (Some 1) (block_lines (codes "X = 1"))) (block_lines (codes "x")), Accepted 1 0 (span 0 0 (codes "x\n") ∷ []) (Becomes (codes "x\nX = 1\n"))) ∷  -- further-202
    (codes "X\nX\n", ExchangeLines (OfRun None (block_lines (codes "X"))) (block_lines (codes "X\nX")), NotMade 2 Already) ∷  -- further-203
    (codes "X\nX\nX\n", ExchangeLines (OfRun None (block_lines (codes "X"))) (block_lines (codes "X\nX")), NotMade 2 Already) ∷  -- further-204
    (codes "X\nX\nY\nX\n", ExchangeLines (OfRun None (block_lines (codes "X"))) (block_lines (codes "X\nX")), NotMade 2 (Ambiguous 3)) ∷  -- further-205
    (codes "X\nX\nY\nX\n", ExchangeLines (OfRun (Some 1) (block_lines (codes "X"))) (block_lines (codes "X\nX")), NotMade 2 Already) ∷  -- further-206
    (codes "X\nX\nY\nX\n", ExchangeLines (OfRun (Some 3) (block_lines (codes "X"))) (block_lines (codes "X\nX")), Accepted 2 1 (span 6 8 (codes "X\nX\n") ∷ []) (Becomes (codes "X\nX\nY\nX\nX\n"))) ∷  -- further-207
    (codes "X\nX\nY\nX\n", ExchangeLines (OfRun (Some 4) (block_lines (codes "X"))) (block_lines (codes "X\nX")), NotMade 2 NoSuch) ∷  -- further-208
    (codes "X\nX\n", ExchangeLines (OfRun None (block_lines (codes "X"))) (block_lines (codes "X")), NotMade 1 Already) ∷  -- further-209
    (codes "X\nX\n", ExchangeLines (OfRun None (block_lines (codes "Y"))) (block_lines (codes "X\nX")), NotMade 2 NoSuch) ∷  -- further-210
    (codes "ifdef A\nX = 1\nendif\nX = 1\n", ExchangeLines (OfRun None (block_lines (codes "X = 1"))) (block_lines (codes "ifdef A\nX = 1\nendif")), NotMade 3 (Ambiguous 2)) ∷  -- further-211
    (codes "ifdef A\nX = 1\nendif\nX = 1\n", ExchangeLines (OfRun (Some 2) (block_lines (codes "X = 1"))) (block_lines (codes "ifdef A\nX = 1\nendif")), Accepted 3 1 (span 20 26 (codes "ifdef A\nX = 1\nendif\n") ∷ []) (Becomes (codes "ifdef A\nX = 1\nendif\nifdef A\nX = 1\nendif\n"))) ∷  -- further-212
    (codes "a\nb\na\nb\n", ExchangeLines (OfRun None (block_lines (codes "a"))) (block_lines (codes "a\nb")), NotMade 2 Already) ∷  -- further-213
    (codes "X\nX\nX\n", ExchangeLines (OfRun None (block_lines (codes "X\nX"))) (block_lines (codes "X\nX\nX")), NotMade 3 Already) ∷  -- further-214
    (codes "X\nX\nX\nX\n", ExchangeLines (OfRun None (block_lines (codes "X\nX"))) (block_lines (codes "X\nX")), NotMade 2 Already) ∷  -- further-215
    (codes "X\nX", ExchangeLines (OfRun None (block_lines (codes "X"))) (block_lines (codes "X\nX")), NotMade 2 Already) ∷  -- further-216
    (codes ".RECIPEPREFIX ?= >\nX\n", ExchangeLines (OfRun None (block_lines (codes "X"))) (block_lines (codes "X")), NotMade 1 RecipePrefix) ∷  -- further-217
    (codes "# a\n# b\n", ExchangeLines (AfterRun None (block_lines (codes "# a"))) (block_lines (codes "# a\n# b")), NotMade 2 Already) ∷  -- further-218
    (codes "# a\n# b\n", ExchangeLines (BeforeRun None (block_lines (codes "# a"))) (block_lines (codes "# a\n# b")), NotMade 2 Already) ∷  -- further-219
    (codes "# a\n# b\n", ExchangeLines (AtPlace Bottom) (block_lines (codes "# a\n# b")), NotMade 2 Already) ∷  -- further-220
    (codes "# a\n# b\nX\n", ExchangeLines (AtPlace Bottom) (block_lines (codes "# a\n# b")), Accepted 2 0 (span 10 10 (codes "# a\n# b\n") ∷ []) (Becomes (codes "# a\n# b\nX\n# a\n# b\n"))) ∷  -- further-221
    (codes "a:\n\tx\n# n\n", ExchangeLines (AtPlace (AfterRule None (codes "a"))) (block_lines (codes "\tx\n# n")), NotMade 2 Already) ∷  -- further-222
    (codes "X = 1\nX = 2\n# n\n", ExchangeLines (AtPlace (AfterLastVar (codes "X"))) (block_lines (codes "X = 2\n# n")), NotMade 2 Already) ∷  -- further-223
    (codes "X = 1\nX = 2\n# n\n", AddLine (AfterLastVar (codes "X")) (NewAssign (codes "X") Recursive (codes "2")), Accepted 1 0 (span 12 12 (codes "X = 2\n") ∷ []) (Becomes (codes "X = 1\nX = 2\nX = 2\n# n\n"))) ∷  -- further-224
    (codes "F = a \\\n b\nY\n", ExchangeLines (AtPlace (AfterVar None (codes "F"))) (block_lines (codes "F = a \\\n b\nY")), NotMade 2 Already) ∷  -- further-225
    (codes "define D\nX\nY\n", ExchangeLines (AtPlace Bottom) (block_lines (codes "X\nY")), NotMade 2 Already) ∷  -- further-226
    (codes "define D\nX\\", ExchangeLines (AtPlace Bottom) (block_lines (codes "Z")), NotMade 1 OpenLine) ∷  -- further-227
    (codes "a b:\n\tx\n", ExchangeLines (OfRuleRun None (codes "a")) (block_lines (codes "a b:\n\tx")), NotMade 2 (SharedRule 2)) ∷  -- further-228
    (codes "ifdef A\na:\n\tx\nelse\n\ty\nendif\n", ExchangeLines (OfRuleRun None (codes "a")) (block_lines (codes "a:\n\tx\nelse\n\ty")), NotMade 4 Straddles) ∷  -- further-229
    (codes "a:\n\tx\n\n# n\n", ExchangeLines (OfRuleRun None (codes "a")) (block_lines (codes "a:\n\tx\n\n# n")), NotMade 4 Already) ∷  -- further-230
    (codes "a:\n\tx\n\n", ExchangeLines (OfRuleRun None (codes "a")) (block_lines (codes "a:\n\tx\n\tx")), Accepted 3 2 (span 0 6 (codes "a:\n\tx\n\tx\n") ∷ []) (Becomes (codes "a:\n\tx\n\tx\n\n"))) ∷  -- further-231
    (codes "a b:\nifdef A\n\tx\nendif\n", ExchangeLines (AtPlace (AfterRule None (codes "a"))) (block_lines (codes "ifdef A\n\tx")), NotMade 2 Straddles) ∷  -- further-232
    (codes "a:\nifdef A\n\tx\nendif\n", AddLine (AfterRule None (codes "a")) (NewRule (codes "b") Single (codes "c")), NotMade 1 Straddles) ∷  -- further-233
    (codes "S = a a b\n", ChangeLine None (codes "S") (edits.InsertWord Before (codes "a") (codes "b")), NotTried Already) ∷  -- further-234
    (codes "S = a a b\n", ChangeLine None (codes "S") (edits.InsertWord Before (codes "a") (codes "c")), NotTried (Ambiguous 2)) ∷  -- further-235
    (codes "S = a a b\n", ChangeLine None (codes "S") (edits.InsertWord Before (codes "c") (codes "b")), NotTried Absent) ∷  -- further-236
    (codes "X = a \\\n\nY = 1\n", ChangeValue (One None) (codes "X") (edits.SetIf (codes "a") []), Accepted 1 1 (span 4 8 [] ∷ []) (Becomes (codes "X = \nY = 1\n"))) ∷  -- further-237
    (codes "X = a \\\n", ChangeValue (One None) (codes "X") (edits.SetIf (codes "a") []), NotTried Absent) ∷  -- further-238
    (codes "a:\nX = 1\n# n\n\tY = 2\n", SwitchLine CommentOut None (codes "X"), NotTried Leans) ∷  -- further-239
    (codes "a:\nX = 1\nb:\n\tY = 2\n", SwitchLine CommentOut None (codes "X"), Accepted 1 1 (span 3 3 (codes "#") ∷ []) (Becomes (codes "a:\n#X = 1\nb:\n\tY = 2\n"))) ∷  -- further-240
    (codes "a:\nX = 1\n\n", SwitchLine CommentOut None (codes "X"), Accepted 1 1 (span 3 3 (codes "#") ∷ []) (Becomes (codes "a:\n#X = 1\n\n"))) ∷  -- further-241
    (codes "$(x)\nX = 1\n\ty\n", SwitchLine CommentOut None (codes "X"), NotTried Leans) ∷  -- further-242
    (codes "# override export = 1\n", SwitchLine Uncomment None (codes "export"), Accepted 1 1 (span 0 2 [] ∷ []) (Becomes (codes "override export = 1\n"))) ∷  -- further-243
    (codes "#export export export = 1\n", SwitchLine Uncomment None (codes "export"), Accepted 1 1 (span 0 1 [] ∷ []) (Becomes (codes "export export export = 1\n"))) ∷  -- further-244
    (codes "#export override =1\n", SwitchLine Uncomment None (codes "override"), Accepted 1 1 (span 0 1 [] ∷ []) (Becomes (codes "export override =1\n"))) ∷  -- further-245
    (codes "#override= 1\n", SwitchLine Uncomment None (codes "override"), Accepted 1 1 (span 0 1 [] ∷ []) (Becomes (codes "override= 1\n"))) ∷  -- further-246
    (codes "#override\n", SwitchLine Uncomment None (codes "override"), NotTried NoSuch) ∷  -- further-247
    (codes "\nX\n", ExchangeLines (OfRun None (block_lines [])) (block_lines (codes "X")), Accepted 1 1 (span 0 1 (codes "X\n") ∷ []) (Becomes (codes "X\nX\n"))) ∷  -- further-248
    (codes "a:\n\t<<E\n", SetRecipe None (codes "a") (ByText (codes "<<E")) (codes "x"), Accepted 1 1 (span 4 7 (codes "x") ∷ []) (Becomes (codes "a:\n\tx\n"))) ∷  -- further-249
    []

answers_5 : map (λ row. account row.0 row.1) rows_5 ≡ map (λ row. row.2) rows_5
answers_5 = refl

abbrev rows_6 : List (List ℕ × Edit × Account)
rows_6 =
    (codes "a: <<E\n", RenameTarget (codes "<<E") (codes "b"), NotMade 1 NoSuch) ∷  -- further-250
    (codes "a:\n\tx", ExchangeLines (AtPlace Bottom) (block_lines (codes "\ty\nZ = 1")), Accepted 2 0 (span 5 5 (codes "\n\ty\nZ = 1\n") ∷ []) (Becomes (codes "a:\n\tx\n\ty\nZ = 1\n"))) ∷  -- further-251
    (codes "define D\nX\nendef", ExchangeLines (AfterRun None (block_lines (codes "endef"))) (block_lines (codes "Y")), Accepted 1 0 (span 16 16 (codes "\nY\n") ∷ []) (Becomes (codes "define D\nX\nendef\nY\n"))) ∷  -- further-252
    (codes "ifdef A\nX", ExchangeLines (AtPlace Bottom) (block_lines (codes "Y")), Accepted 1 0 (span 9 9 (codes "\nY\n") ∷ []) (Becomes (codes "ifdef A\nX\nY\n"))) ∷  -- further-253
    (codes "X", ExchangeLines (AtPlace Bottom) (block_lines []), Accepted 1 0 (span 1 1 (codes "\n\n") ∷ []) (Becomes (codes "X\n\n"))) ∷  -- further-254
    (codes "X\r\nY", ExchangeLines (AtPlace Bottom) (block_lines []), Accepted 1 0 (span 4 4 (codes "\r\n\r\n") ∷ []) (Becomes (codes "X\r\nY\r\n\r\n"))) ∷  -- further-255
    (codes "c: a\n\ta\nifdef A\n\tb\nelse\n\ta\nendif\n\nc::\n\ta\nifdef A\n\tb\nelse\n\ta\nendif\n\ndefine D\na: b\nendef\n.RECIPEPREFIX = >\n", ExchangeLines (OfRuleRun (Some 2) (codes "c")) (block_lines (codes "c:\n\ttrue")), Accepted 2 7 (span 34 66 (codes "c:\n\ttrue\n") ∷ []) (Becomes (codes "c: a\n\ta\nifdef A\n\tb\nelse\n\ta\nendif\n\nc:\n\ttrue\n\ndefine D\na: b\nendef\n.RECIPEPREFIX = >\n"))) ∷  -- further-256
    (codes "a.b ::=a# \\\r\n d\n#>X = 1\n#override\texport X := b\n", AddLine (AfterRule None (codes "c")) (NewAssign (codes "X") Shell []), NotMade 1 NoSuch) ∷  -- further-257
    (codes "a: \r\nendif\r\n\tcc -s y; cc -s z\r\na.b = ;\r\nifdef A\r\nexport F ?= -g\r\nelse\r\nF=\r\nendif\r\n", AddLine (AfterLastVar (codes "F")) (NewAssign (codes "override") PosixSimple []), Accepted 1 0 (span 75 75 (codes "override ::=\r\n") ∷ []) (Becomes (codes "a: \r\nendif\r\n\tcc -s y; cc -s z\r\na.b = ;\r\nifdef A\r\nexport F ?= -g\r\nelse\r\nF=\r\noverride ::=\r\nendif\r\n"))) ∷  -- further-258
    (codes ".RECIPEPREFIX = >\na:  ;>rue\n# n\nifdef A\n\t$c -s x\nF += -O2 \\\na:b -g \\\n \\\n x$(a  b)", ChangeLine (Some 2) (codes "F") (edits.Substitute (codes "-g") (codes "$$")), NotTried NoSuch) ∷  -- further-259
    (codes ".RECIPEPREFIX = F\ni: $(w a) $(w a)\\\n x.o\nX\\\n= \nexport override = b\tx=1#\n\t \nifdef A\nF = \\\n \\\n $\\ \\\na\nelse\noverride a.b = #-g\nendif\n", ChangeLine None (codes "X") (edits.SetOperator Simple), Accepted 1 1 (span 44 45 (codes ":=") ∷ []) (Becomes (codes ".RECIPEPREFIX = F\ni: $(w a) $(w a)\\\n x.o\nX\\\n:= \nexport override = b\tx=1#\n\t \nifdef A\nF = \\\n \\\n $\\ \\\na\nelse\noverride a.b = #-g\nendif\n"))) ∷  -- further-260
    (codes "a\\b: c\noverride define X =\nendef", ExchangeLines (BeforeRun None (block_lines (codes "  b"))) (block_lines (codes "endef\ndefine D")), NotMade 2 NoSuch) ∷  -- further-261
    (codes ".RECIPEPREFIX = >\r\nc: a | b\n\t\\\n\n\ttrue\n\ta \\\n\tb\n\ttrue\nF=a b\nF += a b\n#include = x\nc d: x.o b\\\n x.o\n#\\\\\n", ExchangeLines (BeforeRun (Some 1) (block_lines (codes "\ta \\\n\tb"))) (block_lines (codes "F = -g\ndefine .RECIPEPREFIX")), NotMade 2 Misread) ∷  -- further-262
    (codes "X= a b\\\r\na\\\r\n\ta $(a b) \r\n\r\nc d: b& ; true\r\n\ta\\\r\n\tb\r\n\tcc -s y; cc -s z\r\nF = \r\nc: $(w a) | a d\r\nifdef A\r\n", ChangeLine (Some 1) (codes "X") (edits.InsertWord After (codes "$(a b)") (codes "-O3")), Accepted 1 1 (span 22 22 (codes " -O3") ∷ []) (Becomes (codes "X= a b\\\r\na\\\r\n\ta $(a b) -O3 \r\n\r\nc d: b& ; true\r\n\ta\\\r\n\tb\r\n\tcc -s y; cc -s z\r\nF = \r\nc: $(w a) | a d\r\nifdef A\r\n"))) ∷  -- further-263
    (codes "a: \nF\\\n:= $$\\\n\tx=1\tx$(a  b)\n+\\\\\\\n\n\nc d: x.o a x.o | b\n# n\n", ChangeLine (Some 0) (codes "F") (edits.InsertWord After (codes "$$") (codes "-O3")), NotTried NoSuch) ∷  -- further-264
    (codes "a.b ::= b \\\r\n \\\r\n -O2 # c\r\ni: $(w a) b& a\r\n\ttrue\r\nendif\r\n\tcc -s \\ >y\r\n#X ?= $(x) #n\r\n", ExchangeLines (OfRuleRun None (codes "i")) [], Accepted 0 2 (span 27 50 [] ∷ []) (Becomes (codes "a.b ::= b \\\r\n \\\r\n -O2 # c\r\nendif\r\n\tcc -s \\ >y\r\n#X ?= $(x) #n\r\n"))) ∷  -- further-265
    (codes "ifdef A\r\nF = \r\nelse\r\nF =x=1\\\r\n\t\\#\r\nendif\r\n", AddLine (AfterRule (Some 1) (codes "d")) (NewRule (codes "x.o") Double []), NotMade 1 NoSuch) ∷  -- further-266
    (codes "define D\ninclude a.mk\nendef\n", AddLine (AfterVar None (codes "F")) (NewAssign (codes "F") Recursive (codes "|")), NotMade 1 NoSuch) ∷  -- further-267
    (codes "a: x.o x.o | a d\n\tfor f in x; do \\\n\t  cc $$f; \\\n\tdone\nendif\n\tcc -s x\na: b b&\n\tfor f in x; do \\\n\t  cc $$f; \\\n\tdone\n\ta\\\r\n\tb\n", EachLine (SubstRecipe (Some 2) (codes "a") (codes "cc") (codes "aa")), Accepted 1 1 (span 98 100 (codes "aa") ∷ []) (Becomes (codes "a: x.o x.o | a d\n\tfor f in x; do \\\n\t  cc $$f; \\\n\tdone\nendif\n\tcc -s x\na: b b&\n\tfor f in x; do \\\n\t  aa $$f; \\\n\tdone\n\ta\\\r\n\tb\n"))) ∷  -- further-268
    (codes "X=\n%.o: a\n\ttrue\n", EachLine (SubstRecipes (codes "true") (codes "$(")), Accepted 1 1 (span 11 15 (codes "$(") ∷ []) (Becomes (codes "X=\n%.o: a\n\t$(\n"))) ∷  -- further-269
    (codes "X\\\n+? c\ni: \\\n x.o\n\tfor f in x; do \\\n\t  cc $$f; \\\n\tdone\nendif\n\ttrue\nF=a b $\\\n\nF=-g\na: $(w a)\n\tcc -s \\\n>y\n\tcc -s y; cc -s z\nF = -g\nvpath %.c a\nvpath %.c a\n\\\na&: $(p #) \ta&b \n", ChangeLine (Some 3) (codes "F") (edits.InsertWord After (codes "-g") (codes "x.c")), Accepted 1 1 (span 128 128 (codes " x.c") ∷ []) (Becomes (codes "X\\\n+? c\ni: \\\n x.o\n\tfor f in x; do \\\n\t  cc $$f; \\\n\tdone\nendif\n\ttrue\nF=a b $\\\n\nF=-g\na: $(w a)\n\tcc -s \\\n>y\n\tcc -s y; cc -s z\nF = -g x.c\nvpath %.c a\nvpath %.c a\n\\\na&: $(p #) \ta&b \n"))) ∷  -- further-270
    (codes "a.b=a\na.b = -g a\n", ChangeLine (Some 2) (codes "a.b") (edits.InsertWord Before (codes "a") (codes "-O3")), Accepted 1 1 (span 15 15 (codes "-O3 ") ∷ []) (Becomes (codes "a.b=a\na.b = -g -O3 a\n"))) ∷  -- further-271
    (codes "F::= b a$  -g ; a:b# a \\\\\nF = -g\n", ExchangeLines (AtPlace (AfterRule None (codes "c"))) (block_lines (codes "F = a \\\n  b")), NotMade 1 NoSuch) ∷  -- further-272
    (codes "a.b += a\na.b += -O2\ta\\\n\tx=1 $(s (b) a) -O2\nc:\n", EachLine (ChangeEach (codes "a.b") (edits.Substitute (codes "$(s (b) a)") (codes "x=1"))), Accepted 1 1 (span 28 38 (codes "x=1") ∷ []) (Becomes (codes "a.b += a\na.b += -O2\ta\\\n\tx=1 x=1 -O2\nc:\n"))) ∷  -- further-273
    (codes "F\\\n?= \\\\\nc: a | b\n\tifdef Q\n\trm -f x\nF\\\n!=Ã© \\\n    -g\nifdef A\nF\\\n?= -g \\\n \\\n -g#-g\nendif", AddLine (AfterRule None (codes "c")) (NewRule (codes "c") Double (codes "a b")), Accepted 1 0 (span 36 36 (codes "c:: a b\n") ∷ []) (Becomes (codes "F\\\n?= \\\\\nc: a | b\n\tifdef Q\n\trm -f x\nc:: a b\nF\\\n!=Ã© \\\n    -g\nifdef A\nF\\\n?= -g \\\n \\\n -g#-g\nendif"))) ∷  -- further-274
    (codes "c: a\n# n\n\ta\ndefine D\ninclude a.mk\nc: ; true\n\tt\nexport F::=-g ;\\\n\\\nb\n \n", ExchangeLines (AtPlace (AfterLastVar (codes "F"))) (block_lines (codes "# a \\\n b")), NotMade 1 NoSuch) ∷  -- further-275
    (codes "export F\\\n= -O2\nifdef A\noverride X\\\n::= $x \\\r\n -O2 -g\tb -O2 #-g\nendif\nc d: b& x.o $(w a)\n\ttrue", ChangeLine (Some 4294967295) (codes "F") (edits.Prepend (codes "a:b $\\x")), NotTried NoSuch) ∷  -- further-276
    (codes "#X = r\\\r\n s\n# t = 1\n#X = r\\\r\n s\nc: ;\n\tt\n\t>a\n\ttrue\n\\\n\t\n", ChangeLine None (codes "a.b") (edits.InsertWord Before (codes "=") (codes "$(new a)")), NotTried NoSuch) ∷  -- further-277
    (codes "X = ${c} \\\r\n \n# override \\\n X = 1\n#override\texport X := b\noverride =\\\nb \\\r\n \\", SwitchLine Uncomment None (codes "X"), Accepted 1 1 (span 34 35 [] ∷ []) (Becomes (codes "X = ${c} \\\r\n \n# override \\\n X = 1\noverride\texport X := b\noverride =\\\nb \\\r\n \\"))) ∷  -- further-278
    (codes "c: ; true\n\t a\n\trm -f x\n\ta\n\tb\n\t  cc $$f; \\\n", ExchangeLines (BeforeRun None (block_lines (codes "\ta\n\tb"))) (block_lines (codes "a:\nifdef A\nendif")), Accepted 3 0 (span 23 23 (codes "a:\nifdef A\nendif\n") ∷ []) (Becomes (codes "c: ; true\n\t a\n\trm -f x\na:\nifdef A\nendif\n\ta\n\tb\n\t  cc $$f; \\\n"))) ∷  -- further-279
    (codes "F ::=|\n## F = 1\nc d: b& $(w a) b& | b\n\tcc -s x\n# X = \0\nexport X = $# \\\na\\\n\t\n", EachLine (SubstValues (codes "a") []), Accepted 1 1 (span 71 72 [] ∷ []) (Becomes (codes "F ::=|\n## F = 1\nc d: b& $(w a) b& | b\n\tcc -s x\n# X = \0\nexport X = $# \\\n\\\n\t\n"))) ∷  -- further-280
    (codes "\tfor f in x; do \\\r\na\\b: c\n#>X = 1\nifdef A\nF ?= -g -g b \\\n\\# $\\\n# \\\n d\nelse\nF ::= |\\\n\\\n\nendif\nc&: a\n>a\n \n>\n", AddLine (AfterRule None (codes "c")) (NewAssign (codes "X") Recursive (codes "$x")), Accepted 1 0 (span 99 99 (codes "X = $x\r\n") ∷ []) (Becomes (codes "\tfor f in x; do \\\r\na\\b: c\n#>X = 1\nifdef A\nF ?= -g -g b \\\n\\# $\\\n# \\\n d\nelse\nF ::= |\\\n\\\n\nendif\nc&: a\nX = $x\r\n>a\n \n>\n"))) ∷  -- further-281
    (codes "F= -g a ;#\nF+= $\\\\\n\t-g\noverride define X =\nendef\n# private Y=c\n", SwitchLine Uncomment None (codes "Y"), Accepted 1 1 (span 49 51 [] ∷ []) (Becomes (codes "F= -g a ;#\nF+= $\\\\\n\t-g\noverride define X =\nendef\nprivate Y=c\n"))) ∷  -- further-282
    (codes "override override\\\n= $\\ x=1  ;\t-O2\ni: a a | a d\n\tfor f in x; do \\\n\t  cc $$f; \\\n\tdone\n\tcc -s y; cc -s z\n\\\n: \\\n  override+= %.c\\\n\\\nx.o \na: b b ; true\nx.o:\nX= \\\\\\\\ -g\na.b\\\n:= -g \n", ExchangeLines (AtPlace Bottom) (block_lines (codes "endif\nifdef B")), NotMade 2 Misread) ∷  -- further-283
    (codes "F=b\n#F = a\n#>X = 1\n", EachLine (SubstValues (codes "b") (codes "ab")), Accepted 1 1 (span 2 3 (codes "ab") ∷ []) (Becomes (codes "F=ab\n#F = a\n#>X = 1\n"))) ∷  -- further-284
    (codes "X = 1\n\tababa aaa\ndefine D\ndefine D\nendef\nifdef A\noverride ?= x=1\nelse\na.b := -g\\\n\\\n-g a\nendif\nF= -g\n", AddLine Bottom (NewRule (codes "c") Single (codes "a")), NotMade 1 OpenDefine) ∷  -- further-285
    (codes "ifdef B\nc::\nc: a\nifdef A\n\ta\nendif\nF = a\nelse\n\tx\nendif\n#override\texport X := b\nF::= b a\nF = $  \\#\\\n\\\n\n", AddLine Bottom (NewRule (codes "d") Double (codes "a")), Accepted 1 0 (span 101 101 (codes "d:: a\n") ∷ []) (Becomes (codes "ifdef B\nc::\nc: a\nifdef A\n\ta\nendif\nF = a\nelse\n\tx\nendif\n#override\texport X := b\nF::= b a\nF = $  \\#\\\n\\\n\nd:: a\n"))) ∷  -- further-286
    (codes "F=;\nF=;\nc d: \n\tfor f in x; do \\\n\t  cc $$f; \\\n\tdone\n# x ; y : z = 1\nc:: # c\noverride X ?= -g \\\r\n |\nX = \\#\\\n= \\\r\n a \\\r\n | \\\na\n", AddLine (AfterRule (Some 2) (codes "c")) (NewRule (codes "c") Double []), Accepted 1 0 (span 75 75 (codes "c::\n") ∷ []) (Becomes (codes "F=;\nF=;\nc d: \n\tfor f in x; do \\\n\t  cc $$f; \\\n\tdone\n# x ; y : z = 1\nc:: # c\nc::\noverride X ?= -g \\\r\n |\nX = \\#\\\n= \\\r\n a \\\r\n | \\\na\n"))) ∷  -- further-287
    (codes "c: ; true\r\n\ta\n\trm -rf x\n\t\ttrue\nendif\n", EachLine (SubstRecipes (codes "a") (codes "-O3")), Accepted 1 1 (span 12 13 (codes "-O3") ∷ []) (Becomes (codes "c: ; true\r\n\t-O3\n\trm -rf x\n\t\ttrue\nendif\n"))) ∷  -- further-288
    (codes "F +=$(t \\\n -g)\\\n\tx=1 \\\n=\nc x.o: a\n\ttrue\nc: a\n\ta\n\t\nF\\\n::= a\ta:b\t$$\n", ExchangeLines (AtPlace (AfterLastVar (codes "F"))) (block_lines (codes "a:\nifdef A\nendif")), Accepted 3 0 (span 66 66 (codes "a:\nifdef A\nendif\n") ∷ []) (Becomes (codes "F +=$(t \\\n -g)\\\n\tx=1 \\\n=\nc x.o: a\n\ttrue\nc: a\n\ta\n\t\nF\\\n::= a\ta:b\t$$\na:\nifdef A\nendif\n"))) ∷  -- further-289
    (codes "c: ;\r\n\tifdef Q", ChangeValue (One None) [] (edits.SetIf [] (codes "x$(a  b) x$(a  b)")), NotTried (BadArgument field.Name)) ∷  -- further-290
    (codes "i: a ; true\r\n\tcc -s \\\r\n>y\r\n", EachLine (SubstRecipe None (codes "i") (codes "y") (codes "yy")), Accepted 1 1 (span 24 25 (codes "yy") ∷ []) (Becomes (codes "i: a ; true\r\n\tcc -s \\\r\n>yy\r\n"))) ∷  -- further-291
    (codes "override = $\\# \\\r\n d\r\nc: $(w a) $(w a) a\r\n", AddLine Bottom (NewAssign (codes "F") PosixSimple (codes "-g b")), Accepted 1 0 (span 42 42 (codes "F ::= -g b\r\n") ∷ []) (Becomes (codes "override = $\\# \\\r\n d\r\nc: $(w a) $(w a) a\r\nF ::= -g b\r\n"))) ∷  -- further-292
    (codes "F =b\\\n\t= a:b\na: b&\n\tcc -s y; cc -s z\n\tcc -s x\n# n\nc: b x.o\n## F = 1\nc: b& b& $(w a)\\\n x.o\n\tcc -s y; cc -s z\nendif\nifdef A\n", ChangeValue (One None) (codes "F") (edits.SetIf (codes "b = a:b") []), Accepted 1 1 (span 3 12 [] ∷ []) (Becomes (codes "F =\na: b&\n\tcc -s y; cc -s z\n\tcc -s x\n# n\nc: b x.o\n## F = 1\nc: b& b& $(w a)\\\n x.o\n\tcc -s y; cc -s z\nendif\nifdef A\n"))) ∷  -- further-293
    (codes "\\\n#\\\\\nc&: a\nc:: ;", ExchangeLines (OfRun None (block_lines (codes "c&: a\nc:: ;"))) [], Accepted 0 2 (span 6 17 [] ∷ []) (Becomes (codes "\\\n#\\\\\n"))) ∷  -- further-294
    (codes "d c::\n\trm -f x\n\t\nX ?= a  -O2 -g #\na: b& b a\n", AddLine (AfterRule None (codes "c")) (NewRule (codes "c") Single []), Accepted 1 0 (span 17 17 (codes "c:\n") ∷ []) (Becomes (codes "d c::\n\trm -f x\n\t\nc:\nX ?= a  -O2 -g #\na: b& b a\n"))) ∷  -- further-295
    (codes "c: a\n\ttrue\nifdef A\nc d: $(w a) $(w a) a | b\n\tcc -s y; cc -s z\n\tcc -s \\\n>y\n\tcc -s x\nc: x.o b& ; true\n", EachLine (SubstRecipe None (codes "c") (codes "c") []), Accepted 3 3 (span 45 46 [] ∷ span 46 47 [] ∷ span 54 55 [] ∷ span 55 56 [] ∷ span 63 64 [] ∷ span 64 65 [] ∷ span 75 76 [] ∷ span 76 77 [] ∷ []) (Becomes (codes "c: a\n\ttrue\nifdef A\nc d: $(w a) $(w a) a | b\n\t -s y;  -s z\n\t -s \\\n>y\n\t -s x\nc: x.o b& ; true\n"))) ∷  -- further-296
    (codes "a: b\n\tdone\n\tfor f in x; do \\\noverride define X =\na\\b: c\n  b\nendef\nc: b $(w a) b& | b\n# n\n\n#X = a\\\\ \\\n b\nF = b \\\r\n $(s (b) a) -O2 b\\\n\t-O2\nF += b \\\r\n $(s (b) a) -O2 b\\\n\t-O2", SwitchLine CommentOut (Some 2) (codes "F"), Accepted 1 1 (span 137 137 (codes "#") ∷ []) (Becomes (codes "a: b\n\tdone\n\tfor f in x; do \\\noverride define X =\na\\b: c\n  b\nendef\nc: b $(w a) b& | b\n# n\n\n#X = a\\\\ \\\n b\nF = b \\\r\n $(s (b) a) -O2 b\\\n\t-O2\n#F += b \\\r\n $(s (b) a) -O2 b\\\n\t-O2"))) ∷  -- further-297
    (codes "c:\r\n\tb\r\nifeq (a,b)\r\nF=-g\r\nF=-O2 -g\\\r\n\t-g -g\r\nF = -g\r\nc::\r\nifdef A\r\n\ta\r\nendif\r\n\r\n\tb\r\n\r\n", EachLine (ChangeEach (codes "F") (edits.Prepend (codes "a"))), Accepted 3 3 (span 22 22 (codes "a ") ∷ span 28 28 (codes "a ") ∷ span 49 49 (codes "a ") ∷ []) (Becomes (codes "c:\r\n\tb\r\nifeq (a,b)\r\nF=a -g\r\nF=a -O2 -g\\\r\n\t-g -g\r\nF = a -g\r\nc::\r\nifdef A\r\n\ta\r\nendif\r\n\r\n\tb\r\n\r\n"))) ∷  -- further-298
    (codes "c: a | b\r\nifdef A\r\n\ta\r\nendif\r\n\r\n\tb\r\nF = a\r\nc:\r\nF = a\r\nc:: # c\r\n\ta\r\n\ta\\\r\n>b\r\n\ttrue\r\n\t  cc $$f; \\\r\n \\\r\n\r\nc: b&\\\r\n x.o\r\n\tcc -s y; cc -s z\r\n\r\n\tcc -s x\r\n", SwitchLine CommentOut None (codes "X"), NotTried NoSuch) ∷  -- further-299
    []

answers_6 : map (λ row. account row.0 row.1) rows_6 ≡ map (λ row. row.2) rows_6
answers_6 = refl

abbrev rows_7 : List (List ℕ × Edit × Account)
rows_7 =
    (codes "override define X =\n\ttrue\nendef\nX += a b\nX=a b\nF += a\nF=b x=1\nF = b x=1\nF\\\n::= -g x=1 a\\   b -g\noverride a.b := a\n # \\\n", SwitchLine CommentOut (Some 2) (codes "F"), Accepted 1 1 (span 54 54 (codes "#") ∷ []) (Becomes (codes "override define X =\n\ttrue\nendef\nX += a b\nX=a b\nF += a\n#F=b x=1\nF = b x=1\nF\\\n::= -g x=1 a\\   b -g\noverride a.b := a\n # \\\n"))) ∷  -- further-300
    (codes "ifdef A\n \nc::\nifdef A\n\ta\nendif\n\n\tb\nc:\n# n\n\ta\n\ttrue\nc:\n\t\ttrue\nifeq (a,b)\n", EachLine (SubstRecipe None (codes "c") (codes "b") []), Accepted 1 1 (span 33 34 [] ∷ []) (Becomes (codes "ifdef A\n \nc::\nifdef A\n\ta\nendif\n\n\t\nc:\n# n\n\ta\n\ttrue\nc:\n\t\ttrue\nifeq (a,b)\n"))) ∷  -- further-301
    (codes "c: a\n>true\n>true \\\r\n\ttrue\n>a\n># n\nX = \\\n\t\nc d: b& b& x.o\n# n\n\tfor f in x; do \\\n\t  cc $$f; \\\n\tdone\n# n\n", ChangeLine None (codes "X") (edits.Prepend (codes "$(u")), NotTried (BadArgument field.Value)) ∷  -- further-302
    (codes "a:  | a d\nendif\n\tcc -s y; cc -s z\nifdef A\n#X = 1\n", ExchangeLines (OfRuleRun None (codes "a")) (block_lines (codes "F += a")), Accepted 1 1 (span 0 10 (codes "F += a\n") ∷ []) (Becomes (codes "F += a\nendif\n\tcc -s y; cc -s z\nifdef A\n#X = 1\n"))) ∷  -- further-303
    (codes "override a.b !=\\ b x$(a  b)\r\nd: a | b\r\n \r\n\ty\r\n\t\ttrue\r\n\t\r\n", ExchangeLines (AtPlace (BeforeVar None (codes "a.b"))) (block_lines (codes "X = 1\n")), Accepted 2 0 (span 0 0 (codes "X = 1\r\n\r\n") ∷ []) (Becomes (codes "X = 1\r\n\r\noverride a.b !=\\ b x$(a  b)\r\nd: a | b\r\n \r\n\ty\r\n\t\ttrue\r\n\t\r\n"))) ∷  -- further-304
    (codes "#include = x\r\n# export F = a\nifdef A\noverride F\\\n= a\\\na\\\n\t;\nelse\nF\\\n= \nendif\ndefine D\n\t  cc $$f; \\\nendef\n", ChangeLine None (codes "F") (edits.ReplaceWord (codes ";") (codes "a")), NotTried (Ambiguous 2)) ∷  -- further-305
    (codes "ifdef A\r\nF\\\r\n= \r\nelse\r\nF!= $(w \\\r\n a) \\#\r\nendif\r\nc&: a | b\r\n\t a\r\nF = #-g\r\nc:: ; true\r\n# n\r\n# \\\r\n n\r\n", ExchangeLines (OfRuleRun (Some 4294967295) (codes "c")) [], NotMade 0 NoSuch) ∷  -- further-306
    (codes "#\\\\\nc: ;\noverride =;\\\na  -g", ExchangeLines (OfRuleRun None (codes "c")) [], Accepted 0 1 (span 4 9 [] ∷ []) (Becomes (codes "#\\\\\noverride =;\\\na  -g"))) ∷  -- further-307
    (codes "override F =-g\na.b += a b\na.b = a\tb\na.b = a\tb\ndefine D \\\n e\nX = 1\nendef\ndefine D \\\n e\ninclude a.mk\nendef\n#export = 1\n", ExchangeLines (OfRun (Some 2) (block_lines (codes "a.b = a\tb"))) [], Accepted 0 1 (span 36 46 [] ∷ []) (Becomes (codes "override F =-g\na.b += a b\na.b = a\tb\ndefine D \\\n e\nX = 1\nendef\ndefine D \\\n e\ninclude a.mk\nendef\n#export = 1\n"))) ∷  -- further-308
    (codes "\tababa aaa\nifdef A\nelse\n\ttrue\n", ExchangeLines (OfRun None (block_lines (codes "\tababa aaa"))) (block_lines (codes "X = 1\n")), NotMade 2 Leans) ∷  -- further-309
    (codes "F += a\nF += a\nX = 1\nX= -O2# a \\\\\nF = aaa aaaa # aa\nX != a# c\nX= | $(u\nc d: x.o ; true", EachLine (SubstValues (codes "a") (codes "/usr")), Accepted 4 4 (span 5 6 (codes "/usr") ∷ span 12 13 (codes "/usr") ∷ span 37 38 (codes "/usr") ∷ span 38 39 (codes "/usr") ∷ span 39 40 (codes "/usr") ∷ span 41 42 (codes "/usr") ∷ span 42 43 (codes "/usr") ∷ span 43 44 (codes "/usr") ∷ span 44 45 (codes "/usr") ∷ span 56 57 (codes "/usr") ∷ []) (Becomes (codes "F += /usr\nF += /usr\nX = 1\nX= -O2# a \\\\\nF = /usr/usr/usr /usr/usr/usr/usr # aa\nX != /usr# c\nX= | $(u\nc d: x.o ; true"))) ∷  -- further-310
    (codes "F += a\nF += a\nc: # c\n\ttrue\n\ta\n\ttrue\n\ta # b\nF= a\tb  -g\\\n\t-g\ni: \n# n\n\ttrue\n", ExchangeLines (OfRuleRun None (codes "c")) (block_lines (codes "tX = 1\n")), Accepted 2 5 (span 14 43 (codes "tX = 1\n\n") ∷ []) (Becomes (codes "F += a\nF += a\ntX = 1\n\nF= a\tb  -g\\\n\t-g\ni: \n# n\n\ttrue\n"))) ∷  -- further-311
    (codes "F?= -g -O2\noverride F\\\n= = -g\\\n; a$  -g\nc d: ", ChangeLine None (codes "F") (edits.InsertWord Before (codes "a$ ") (codes "=")), NotTried (BadArgument field.Word)) ∷  -- further-312
    (codes "\tababa aaa\n  b\n#override = 1\ninclude a.mk\n# n\n", ExchangeLines (OfRun None (block_lines (codes "include a.mk\n# n"))) [], Accepted 0 2 (span 29 46 [] ∷ []) (Becomes (codes "\tababa aaa\n  b\n#override = 1\n"))) ∷  -- further-313
    (codes "X == $\\\r\n\r\n-include b.mk\r\n#X = 1\r\na.b= \\# x=1\\\r\n\ta:b\\\r\n\t# \\\r\n d\r", ExchangeLines (OfRun None (block_lines (codes "X == $\\\n"))) [], Accepted 0 1 (span 0 11 [] ∷ []) (Becomes (codes "-include b.mk\r\n#X = 1\r\na.b= \\# x=1\\\r\n\ta:b\\\r\n\t# \\\r\n d\r"))) ∷  -- further-314
    (codes "# \\\r\n# override \\\r\n X = 1\r\nc: ; true\r\n\t\ttrue\r\n\trm -f x\r\n", ExchangeLines (OfRun None (block_lines (codes "c: ; true\n\t\ttrue\n\trm -f x"))) [], Accepted 0 3 (span 27 56 [] ∷ []) (Becomes (codes "# \\\r\n# override \\\r\n X = 1\r\n"))) ∷  -- further-315
    (codes "\n", ExchangeLines (AtPlace (AfterRule None (codes "a b"))) (block_lines (codes "\tfor f in x; do \\")), NotMade 1 (BadArgument field.Place)) ∷  -- further-316
    (codes "# x ; y : z = 1\nc: $(w a) x.o x.o\n\tcc -s y; cc -s z\n\ttrue\n", AddLine (BeforeRule (Some 2) (codes "c")) (NewAssign (codes "F") Immediate (codes "-O2")), NotMade 1 NoSuch) ∷  -- further-317
    (codes "F += a\nF\\\n::=-O2 \\\n    a#-g", EachLine (ChangeEach (codes "F") (edits.Prepend (codes "b x$(a  b)"))), Accepted 2 2 (span 5 5 (codes "b x$(a  b) ") ∷ span 13 13 (codes "b x$(a  b) ") ∷ []) (Becomes (codes "F += b x$(a  b) a\nF\\\n::=b x$(a  b) -O2 \\\n    a#-g"))) ∷  -- further-318
    (codes "X :=b\\\n a# ", AddLine (BeforeRule None (codes "a b")) (NewAssign (codes "F") Recursive (codes "b b")), NotMade 1 (BadArgument field.Place)) ∷  -- further-319
    (codes "#\\\\\\\n\nifdef B\nc: a\n\ta\nifdef A\n\tb\nX = 1\nendif\nc: a\nifdef A\n\ta\nendif\n\nelse\n\tx\nendif\na: a\nendif\n# n", ChangeLine None (codes "X") (edits.ReplaceWord (codes "x=1") (codes "|")), NotTried Absent) ∷  -- further-320
    (codes "#F \\\r\n= 1\r\nc: x.o | b\r\nifdef A\r\nc d: \\\r\n x.o\r\n\ta\\\r\n\tb\r\n# n\r\nifdef A\r\nc: b& x.o $(w a)\\\r\n x.o\r\nendif\r\nF =\\ b #-g\r\nF = # \\\r\n d", EachLine (SubstRecipe None (codes "d") (codes "b") (codes "$(y)")), Accepted 1 1 (span 52 53 (codes "$(y)") ∷ []) (Becomes (codes "#F \\\r\n= 1\r\nc: x.o | b\r\nifdef A\r\nc d: \\\r\n x.o\r\n\ta\\\r\n\t$(y)\r\n# n\r\nifdef A\r\nc: b& x.o $(w a)\\\r\n x.o\r\nendif\r\nF =\\ b #-g\r\nF = # \\\r\n d"))) ∷  -- further-321
    (codes "X =|  $$ -g b  ;\nF =-g#\ni: b x.o x.o ; true\n\ta\\\r\n\tb\n\ttrue\n", EachLine (SubstRecipe (Some 1) (codes "i") (codes "true") []), Accepted 1 1 (span 53 57 [] ∷ []) (Becomes (codes "X =|  $$ -g b  ;\nF =-g#\ni: b x.o x.o ; true\n\ta\\\r\n\tb\n\t\n"))) ∷  -- further-322
    (codes "override define X =\nF = aaa aaaa # aa\ninclude a.mk\nendef\nX = a\nX=a", AddLine Top (NewAssign (codes "X") Shell []), Accepted 1 0 (span 0 0 (codes "X !=\n") ∷ []) (Becomes (codes "X !=\noverride define X =\nF = aaa aaaa # aa\ninclude a.mk\nendef\nX = a\nX=a"))) ∷  -- further-323
    (codes ".RECIPEPREFIX = >\n%.o:: # c\n\t\n\ttrue\n\ta\na: a\nendif\n\tfor f in x; do \\\n\t  cc $$f; \\\n\tdone\n", ExchangeLines (OfRuleRun None (codes "a")) (block_lines (codes "\n")), Accepted 2 1 (span 39 44 (codes "\n\n") ∷ []) (Becomes (codes ".RECIPEPREFIX = >\n%.o:: # c\n\t\n\ttrue\n\ta\n\n\nendif\n\tfor f in x; do \\\n\t  cc $$f; \\\n\tdone\n"))) ∷  -- further-324
    (codes ".RECIPEPREFIX = t\nF ::= \\#\\\na x=1 # a \\\\\ni: $(w a) b b& ; true\n\tdone\n \nelse\n#X: = 1\n", ChangePrereqs None (codes "i") (ReplacePrereq (codes "b") (codes "x.o")), Accepted 1 1 (span 51 52 (codes "x.o") ∷ []) (Becomes (codes ".RECIPEPREFIX = t\nF ::= \\#\\\na x=1 # a \\\\\ni: $(w a) x.o b& ; true\n\tdone\n \nelse\n#X: = 1\n"))) ∷  -- further-325
    (codes "d c: # c\n>\n>a # b\n>\nendef\n\t\n", ExchangeLines (OfRun None (block_lines (codes "d c: # c\n>"))) [], Accepted 0 2 (span 0 11 [] ∷ []) (Becomes (codes ">a # b\n>\nendef\n\t\n"))) ∷  -- further-326
    (codes "include c: ; true\n\tx \\ y\n\ty\r\nifeq (a,b)\ni: $(w a) b& b ; true\nendif\n\tcc -s \\\n>y\n\tfor f in x; do \\\n\t  cc $$f; \\\n\tdone\nifdef A\nX ::= $(a\tb)\\\n\ta\nelse\na.b = a$\\#\nendif\nc:\n\ta\nifdef A\n\tb\nX = 1\nendif\nF = a\nc:\nF = a\n", EachLine (ChangeEach (codes "X") (edits.SetOperator PosixSimple)), Accepted 2 2 (span 127 130 (codes "::=") ∷ span 183 184 (codes "::=") ∷ []) (Becomes (codes "include c: ; true\n\tx \\ y\n\ty\r\nifeq (a,b)\ni: $(w a) b& b ; true\nendif\n\tcc -s \\\n>y\n\tfor f in x; do \\\n\t  cc $$f; \\\n\tdone\nifdef A\nX ::= $(a\tb)\\\n\ta\nelse\na.b = a$\\#\nendif\nc:\n\ta\nifdef A\n\tb\nX ::= 1\nendif\nF = a\nc:\nF = a\n"))) ∷  -- further-327
    (codes "c: a\n\t\\\n\nifeq (a,b)\n\t\ttrue\nc d: x.o a $(w a) ; true\n# n\n\tcc -s x\nc: a | b\n\t\n\trm -f x\n\tb\n", EachLine (SubstRecipes [] (codes "x")), NotTried (BadArgument field.From)) ∷  -- further-328
    (codes "ifdef A\nF= a\t-O2 b\nendif\nifdef B\nc: a | b\n\ta a\n\nc::\n# n\n\ta\n\nendif\r", ExchangeLines (AtPlace (AfterLastVar (codes "F"))) (block_lines (codes "endef\ndefine D")), NotMade 2 Misread) ∷  -- further-329
    (codes ".RECIPEPREFIX = t\nc:\n\trm -f x\n\trm -f x\n.RECIPEPREFIX = >\n #\\\\\nF\\\n=b a a:b $(t \\\n -g) \\\n-g\r", ChangeLine None (codes "F") (edits.SetOperator Shell), NotTried NoSuch) ∷  -- further-330
    (codes " \nx.o:: a\n\ta \\\n\tb\na.b\\\n= -g -g\nF= \\\n \\\n b \n", ExchangeLines (OfRuleRun None (codes "x.o")) (block_lines (codes "X = ababa")), Accepted 1 2 (span 2 18 (codes "X = ababa\n") ∷ []) (Becomes (codes " \nX = ababa\na.b\\\n= -g -g\nF= \\\n \\\n b \n"))) ∷  -- further-331
    (codes "F = b |\n# private Y=c\nd: a\n\ttrue\nifdef A\nc: a\n\ta\nifdef A\n\tb\nX = 1\nendif\n\nc d: b b& ; true\n\ttrue\nifdef A\nc: a\n\ta\nifdef A\n\tb\nelse\n\ta\nendif\n\nF = a\nc: a | b\n\ta\nifdef A\n\tb\nelse\n\ta\nendif\n", ExchangeLines (AtPlace (AfterLastVar (codes "F"))) (block_lines (codes "F = a \\\n  b")), Accepted 1 0 (span 144 144 (codes "F = a \\\n  b\n") ∷ []) (Becomes (codes "F = b |\n# private Y=c\nd: a\n\ttrue\nifdef A\nc: a\n\ta\nifdef A\n\tb\nX = 1\nendif\n\nc d: b b& ; true\n\ttrue\nifdef A\nc: a\n\ta\nifdef A\n\tb\nelse\n\ta\nendif\n\nF = a\nF = a \\\n  b\nc: a | b\n\ta\nifdef A\n\tb\nelse\n\ta\nendif\n"))) ∷  -- further-332
    (codes ".RECIPEPREFIX = F\r\na: a b\r\n\r\n\ta\\\r\n\tb\r\n\ttrue\r\n# export F = a", ExchangeLines (OfRun None (block_lines [])) [], Accepted 0 1 (span 27 29 [] ∷ []) (Becomes (codes ".RECIPEPREFIX = F\r\na: a b\r\n\ta\\\r\n\tb\r\n\ttrue\r\n# export F = a"))) ∷  -- further-333
    (codes "c:\nF = a\nc: a | b\n\ta\nifdef A\n\tb\nelse\n\ta\nendif\n\n\n\t  cc $$f; \\\nendif\n\tdone\nd: ; true\n\t\n\t# n", EachLine (ChangeEach (codes "$(X)") (edits.ReplaceWord (codes "-O2") (codes "${c}"))), NotTried (BadArgument field.Name)) ∷  -- further-334
    (codes "vpath %.c a\nendef\nc: a | b\n\tifdef Q\n\t>a\n\ta\\\\\n\n", ExchangeLines (OfRuleRun None (codes "c")) [], Accepted 0 4 (span 18 45 [] ∷ []) (Becomes (codes "vpath %.c a\nendef\n\n"))) ∷  -- further-335
    (codes "F = = a = -g \r\na: a b& $(w a) | a d\n\ta\\\r\n\tb\n\tcc -s \\\n>y\n\tfor f in x; do \\\n\t  cc $$f; \\\n:one\\\n", ExchangeLines (OfRuleRun None (codes "a")) [], Accepted 0 4 (span 15 93 [] ∷ []) (Becomes (codes "F = = a = -g \r\n"))) ∷  -- further-336
    (codes "F = \nX = 1\ni: x.o $(w a)\n\tcc -s \\\n>y\n\tcc -s x\n\tcc -s y; cc -s z\n", SwitchLine CommentOut None (codes "F"), Accepted 1 1 (span 0 0 (codes "#") ∷ []) (Becomes (codes "#F = \nX = 1\ni: x.o $(w a)\n\tcc -s \\\n>y\n\tcc -s x\n\tcc -s y; cc -s z\n"))) ∷  -- further-337
    (codes "override=-g\noverride = -g\n# t = 1\n# export F = a\n", ChangeValue Every (codes "override") (edits.SetIf (codes "-g") []), Accepted 2 2 (span 9 11 [] ∷ span 23 25 [] ∷ []) (Becomes (codes "override=\noverride = \n# t = 1\n# export F = a\n"))) ∷  -- further-338
    (codes "\\\nc: \\\n \\\n ${g(}  .PHONY $x#c \\\n d\n#Y=\na: b& | b\n\tfor f in x; do \\\n\t  cc $$f; \\\n\tdone\nF= a:b\n.PHONY: $(f {)  $(q:;=|)\\\n\\\n$(p #) ", EachLine (SubstRecipe None (codes "a") (codes "e") (codes " ")), Accepted 1 1 (span 84 85 (codes " ") ∷ []) (Becomes (codes "\\\nc: \\\n \\\n ${g(}  .PHONY $x#c \\\n d\n#Y=\na: b& | b\n\tfor f in x; do \\\n\t  cc $$f; \\\n\tdon \nF= a:b\n.PHONY: $(f {)  $(q:;=|)\\\n\\\n$(p #) "))) ∷  -- further-339
    (codes "ifdef A\r\n#X = 1\r\nF += $#\\\r\n\t-g\r\nF += a\r\n", AddLine (BeforeRule (Some 0) (codes "c")) (NewRule (codes "include") Single []), NotMade 1 Reserved) ∷  -- further-340
    (codes "c: a\n\t\n\ttrue\nifeq (a,b)\nifdef A\na.b= # c\nendif", EachLine (SubstRecipe None (codes "c") (codes "true") (codes "$(y)")), Accepted 1 1 (span 8 12 (codes "$(y)") ∷ []) (Becomes (codes "c: a\n\t\n\t$(y)\nifeq (a,b)\nifdef A\na.b= # c\nendif"))) ∷  -- further-341
    (codes "%.o: # c\n\tb\n#F = a\nc: # c\n>x \\ y\n>\\\n", EachLine (SubstRecipes (codes "cc") []), NotTried Absent) ∷  -- further-342
    (codes ".RECIPEPREFIX = t\r\nifdef A\r\nF =  \r\nelse\r\nX\\\r\n!= a:b\r\nendif\r\nd: ; true\r\n\t\r\n\ty\r\n\tifdef Q\r\na.b\\\r\n+= $# -O2 $(w \\\r\n a) \r\n%.o:\r\n\tsay \"q\"", ExchangeLines (OfRuleRun None (codes "d")) (block_lines (codes "x \\\n")), Accepted 1 1 (span 60 71 (codes "x \\\r\n\r\n") ∷ []) (Becomes (codes ".RECIPEPREFIX = t\r\nifdef A\r\nF =  \r\nelse\r\nX\\\r\n!= a:b\r\nendif\r\nx \\\r\n\r\n\t\r\n\ty\r\n\tifdef Q\r\na.b\\\r\n+= $# -O2 $(w \\\r\n a) \r\n%.o:\r\n\tsay \"q\""))) ∷  -- further-343
    (codes "#override = 1\n#Y=\nx.o: ; true\n\tifdef Q\n\ta\n\t\\\n\n#F::=1", AddLine (AfterLastVar (codes "F")) (NewRule (codes "c") Single []), NotMade 1 NoSuch) ∷  -- further-344
    (codes "else\r\nc::\r\nifdef A\r\n\ta\r\nendif\r\nc: a\r\n\ta a\r\n", ExchangeLines (OfRuleRun (Some 2) (codes "c")) (block_lines (codes "endif\n")), Accepted 2 2 (span 31 43 (codes "endif\r\n\r\n") ∷ []) (Becomes (codes "else\r\nc::\r\nifdef A\r\n\ta\r\nendif\r\nendif\r\n\r\n"))) ∷  -- further-345
    (codes "F = $(a\tb) x=1 x=1 = \ni: a\n\ta\\\r\n\tb\n\ta\\\r\n\tb\nF += $x ; |\nifdef A\nF= a\\\\  $\\\n\nelse\nF= x=1 $(t \\\n -g)\\\na\\\\ $$  a$\\\nendif\n# F is on\n", ExchangeLines (OfRuleRun None (codes "i")) (block_lines (codes "i:\nifdef A\n\tx\nendif")), Accepted 4 3 (span 22 43 (codes "i:\nifdef A\n\tx\nendif\n") ∷ []) (Becomes (codes "F = $(a\tb) x=1 x=1 = \ni:\nifdef A\n\tx\nendif\nF += $x ; |\nifdef A\nF= a\\\\  $\\\n\nelse\nF= x=1 $(t \\\n -g)\\\na\\\\ $$  a$\\\nendif\n# F is on\n"))) ∷  -- further-346
    (codes "c: b& b | a d\n\tcc -s x\nifdef A\n\tcc -s \\\n>y\n.RECIPEPREFIX = >", ChangeLine (Some 0) (codes "override") (edits.Substitute (codes "cc") (codes "}")), NotTried RecipePrefix) ∷  -- further-347
    (codes "c d: b | a d\nc d:  ; true\n\tfor f in x; do \\\n\t  cc $$f; \\\n\tdone\n\tcc -s x\n\ttrue\nX = 1\n", EachLine (ChangeEach (codes "X") (edits.Substitute (codes "1") (codes "$(y)"))), Accepted 1 1 (span 82 83 (codes "$(y)") ∷ []) (Becomes (codes "c d: b | a d\nc d:  ; true\n\tfor f in x; do \\\n\t  cc $$f; \\\n\tdone\n\tcc -s x\n\ttrue\nX = $(y)\n"))) ∷  -- further-348
    (codes ".RECIPEPREFIX = >\nx.o: a\n>ifdef Q\n${c}:: foo # \\\nF\\\n!= $x# a \\\\\nX = b# c\nifdef B\nc: a\n# n\n\ta\nF = a\nc: a\nifdef A\n\ta\nendif\nendif\n", AddLine Bottom (NewRule (codes "c") Single (codes "a b")), Accepted 1 0 (span 127 127 (codes "c: a b\n") ∷ []) (Becomes (codes ".RECIPEPREFIX = >\nx.o: a\n>ifdef Q\n${c}:: foo # \\\nF\\\n!= $x# a \\\\\nX = b# c\nifdef B\nc: a\n# n\n\ta\nF = a\nc: a\nifdef A\n\ta\nendif\nendif\nc: a b\n"))) ∷  -- further-349
    []

answers_7 : map (λ row. account row.0 row.1) rows_7 ≡ map (λ row. row.2) rows_7
answers_7 = refl

abbrev rows_8 : List (List ℕ × Edit × Account)
rows_8 =
    (codes "%.o: # c\nX = -g \\\n\n", ExchangeLines (OfRun None (block_lines (codes "%.o: # c\nX = -g \\\n"))) [], Accepted 0 2 (span 0 19 [] ∷ []) (Becomes [])) ∷  -- further-350
    (codes "\ninclude: a\n\tb\n\t\t\\\n\nifdef A\nendif\nc: a\\\n", AddLine (BeforeVar None (codes "X")) (NewRule (codes "c") Double (codes "a b")), NotMade 1 NoSuch) ∷  -- further-351
    (codes "c: # c\nifeq (a,b)\nF = -O2 \\\r\n a # \\\n d\n>>a\nc d: \nendif\nifdef A\nc: a\n\ta\nifdef A\n\tb\nelse\n\ta\nendif\n\nc::\n\ta\nifdef A\n\tb\nelse\n\ta\nendif\n\n\n", ChangeLine None (codes "F") (edits.Prepend (codes "-g")), Accepted 1 1 (span 22 22 (codes "-g ") ∷ []) (Becomes (codes "c: # c\nifeq (a,b)\nF = -g -O2 \\\r\n a # \\\n d\n>>a\nc d: \nendif\nifdef A\nc: a\n\ta\nifdef A\n\tb\nelse\n\ta\nendif\n\nc::\n\ta\nifdef A\n\tb\nelse\n\ta\nendif\n\n\n"))) ∷  -- further-352
    (codes "# n\r\nc d: b ; true\n# n\nendif\na: b | a d\n\tcc -s \\\n>y\n\tcc -s y; cc -s z\na: a\n\tcc -s x\nifdef A\n", ChangePrereqs None (codes "d") (ReplacePrereq (codes "b") (codes "d|")), NotTried (BadArgument field.New)) ∷  -- further-353
    (codes "F += ;\\\r\nx=1 -O2\r\nF=-g\r\nF ?= a \\\r\n$x\\\r\n\t-g b b\r\nexport F =  \r\nc: x.o a ; true\r\nendif", ExchangeLines (AtPlace (AfterRule None (codes "c"))) (block_lines (codes "ifdef A")), NotMade 1 Misread) ∷  -- further-354
    (codes "F\\\n= $(w \\\n a)  a:b \nF ::= -O2\\\n\\\na:b $# a \n", ChangeValue (One None) (codes "F") (edits.SetIf (codes "-O2 a:b $# a") (codes "b a")), Accepted 1 1 (span 27 42 (codes "b a") ∷ []) (Becomes (codes "F\\\n= $(w \\\n a)  a:b \nF ::= b a \n"))) ∷  -- further-355
    (codes "ifdef A\r\na.b\\\n?= # a \\\\\nendif\na.b\\\n::= \nd: ; true\n># n\n>y\r\n", ExchangeLines (OfRuleRun None (codes "d")) (block_lines (codes "ifneq (x,)\nd: ; true\nendif")), Accepted 3 1 (span 40 50 (codes "ifneq (x,)\nd: ; true\nendif\n") ∷ []) (Becomes (codes "ifdef A\r\na.b\\\n?= # a \\\\\nendif\na.b\\\n::= \nifneq (x,)\nd: ; true\nendif\n># n\n>y\r\n"))) ∷  -- further-356
    (codes "endif\nF::= -O2 = $(w \\\n a) x=1 \\\n \\\n b \nF != \\\\ b\\\n\\\n#\nifdef A\nF=a\\\\ $x# c\nendif", ChangeLine (Some 3) (codes "F") (edits.InsertWord After (codes "$x") (codes "$(s (b) a)")), Accepted 1 1 (span 71 71 (codes " $(s (b) a)") ∷ []) (Becomes (codes "endif\nF::= -O2 = $(w \\\n a) x=1 \\\n \\\n b \nF != \\\\ b\\\n\\\n#\nifdef A\nF=a\\\\ $x $(s (b) a)# c\nendif"))) ∷  -- further-357
    (codes "c: a | b\nifdef A\n\ta\nendif\nF = a\nc:\n\ta\nifdef A\n\tb\nelse\n\ta\nendif\n\nF = a\nX = -g a ;\nendef\nF!=; $(w \\\n a)\\\n\\\nx=1 $(w \\\n a)", ExchangeLines (BeforeRun None (block_lines (codes "X = -g a ;"))) (block_lines (codes "endif\n\t  cc $$f; \\\n\tfor f in x; do \\")), NotMade 2 (BadArgument field.Block)) ∷  -- further-358
    (codes "F\\\n?= a:b = -O2 \\\n \\\n \nX=-g\nX=-g\\\n\ta$\\\nX=-g\\\n\ta$\\\nifdef B\nc: a\n\ta\nifdef A\n\tb\nX = 1\nendif\n\nc: a\n\ta a\nelse\n\tx\nendif\n \nF = a \\\nc d: a\n\ta\\\r\n\tb\n\ta\\\r\n\tb\n", EachLine (SubstRecipes (codes "b") (codes "x")), Accepted 1 1 (span 75 76 (codes "x") ∷ []) (Becomes (codes "F\\\n?= a:b = -O2 \\\n \\\n \nX=-g\nX=-g\\\n\ta$\\\nX=-g\\\n\ta$\\\nifdef B\nc: a\n\ta\nifdef A\n\tx\nX = 1\nendif\n\nc: a\n\ta a\nelse\n\tx\nendif\n \nF = a \\\nc d: a\n\ta\\\r\n\tb\n\ta\\\r\n\tb\n"))) ∷  -- further-359
    (codes ".RECIPEPREFIX = X\nF = $(s (b) a) \nF =-O2 -g b\\\n; -g# \\\n d\ni:  | b\n# n\n\ta\\\r\n\tb\nF\\\n= $# a", EachLine (ChangeEach (codes "F") (edits.Substitute (codes "a") (codes "a b"))), Accepted 2 2 (span 30 31 (codes "a b") ∷ span 86 87 (codes "a b") ∷ []) (Becomes (codes ".RECIPEPREFIX = X\nF = $(s (b) a b) \nF =-O2 -g b\\\n; -g# \\\n d\ni:  | b\n# n\n\ta\\\r\n\tb\nF\\\n= $# a b"))) ∷  -- further-360
    (codes " \nF = a \\\n#Y=\nd: ; true\n# \\\n n\n", ExchangeLines (OfRun None (block_lines (codes "# \\\n n"))) [], Accepted 0 1 (span 24 31 [] ∷ []) (Becomes (codes " \nF = a \\\n#Y=\nd: ; true\n"))) ∷  -- further-361
    (codes "d:\n\t\nendif\n\t a\nelse\nX:= $(a b)", EachLine (SubstValues (codes "a") []), Accepted 1 1 (span 26 27 [] ∷ []) (Becomes (codes "d:\n\t\nendif\n\t a\nelse\nX:= $( b)"))) ∷  -- further-362
    (codes "override = -\\\na \\\n \\\n -g\noverride += ! \\\na \\\n \\\n -g\n\ninclude a.mk\n\na: x.o $(w a)\\\n x.o\n\tcc -s y; cc -s z", ChangeLine (Some 2) (codes "override") (edits.InsertWord Before (codes "!") (codes "x.c")), Accepted 1 1 (span 37 37 (codes "x.c \\\n") ∷ []) (Becomes (codes "override = -\\\na \\\n \\\n -g\noverride += x.c \\\n! \\\na \\\n \\\n -g\n\ninclude a.mk\n\na: x.o $(w a)\\\n x.o\n\tcc -s y; cc -s z"))) ∷  -- further-363
    (codes "F=-g\nF += -g\nX= adefine$ # a \\\\\nifdef A\nF\\\n=\\\n\\\na:b\tb -O2 # c\nendif\nF= b\nF = x$(a  b) x= \\\n    a ", ChangeLine (Some 5) (codes "F") (edits.ReplaceWord (codes "x=") (codes "-g")), Accepted 1 1 (span 86 88 (codes "-g") ∷ []) (Becomes (codes "F=-g\nF += -g\nX= adefine$ # a \\\\\nifdef A\nF\\\n=\\\n\\\na:b\tb -O2 # c\nendif\nF= b\nF = x$(a  b) -g \\\n    a "))) ∷  -- further-364
    (codes "c: ; true\r\nifdef A\r\n\tifdef Q\r\n\t# n\r\n#X = a\\\\ \\\r\n b\r\nc:  | b\r\n  b\r\nF = aaa aaaa # aa\r\nX = 1\r\noverride\\\r\n= |\\\r\nÃ© a\r\n", ChangeValue (One None) (codes "F") (edits.SetIf (codes "aaa aaaa") (codes "a  b")), Accepted 1 1 (span 70 78 (codes "a  b") ∷ []) (Becomes (codes "c: ; true\r\nifdef A\r\n\tifdef Q\r\n\t# n\r\n#X = a\\\\ \\\r\n b\r\nc:  | b\r\n  b\r\nF = a  b # aa\r\nX = 1\r\noverride\\\r\n= |\\\r\nÃ© a\r\n"))) ∷  -- further-365
    (codes "F = a \\\n\tababa aaa\n-include b.mk\nc:\n\ta\nifdef A\n\tb\nelse\n\ta\nendif\n\nc:\n\ta a\nF = a", EachLine (SubstRecipe None (codes "a b") (codes "zz") (codes "ab")), NotTried (BadArgument field.Target)) ∷  -- further-366
    (codes "F\\\n= -g $$ -g \\\n    a\nelse\n\nendef\nX = 1\nendif\nF += a\nF = a", AddLine (AfterLastVar (codes "F")) (NewRule (codes "c") Double (codes "a")), Accepted 1 0 (span 58 58 (codes "\nc:: a\n") ∷ []) (Becomes (codes "F\\\n= -g $$ -g \\\n    a\nelse\n\nendef\nX = 1\nendif\nF += a\nF = a\nc:: a\n"))) ∷  -- further-367
    (codes "d:: a | b\n\t# n\n\t a\n\tidef Q\nc:: a\n>t\nendif\n>true\n>t\ndefine D \\\n e\n\t  cc $$f; \\\nendef\n%.o: # c\n>\n>b\n>true\n", AddLine Bottom (NewAssign (codes "F") Recursive []), NotMade 1 OpenDefine) ∷  -- further-368
    (codes "## F = 1\nd:\n\ttrue\n", ExchangeLines (OfRuleRun None (codes "d")) [], Accepted 0 2 (span 9 18 [] ∷ []) (Becomes (codes "## F = 1\n"))) ∷  -- further-369
    (codes ".RECIPEPREFIX = >\nX=a\nX=a", AddLine Bottom (NewRule (codes "c") Single (codes "a")), Accepted 1 0 (span 25 25 (codes "\nc: a\n") ∷ []) (Becomes (codes ".RECIPEPREFIX = >\nX=a\nX=a\nc: a\n"))) ∷  -- further-370
    (codes ".RECIPEPREFIX = t\r\nc: a\r\nifdef A\r\noverride F ::= b\r\nendif\r\n#F", ExchangeLines (AtPlace (BeforeRule None (codes "c"))) (block_lines (codes "ifdef A\nX = 1\nendif")), Accepted 3 0 (span 19 19 (codes "ifdef A\r\nX = 1\r\nendif\r\n") ∷ []) (Becomes (codes ".RECIPEPREFIX = t\r\nifdef A\r\nX = 1\r\nendif\r\nc: a\r\nifdef A\r\noverride F ::= b\r\nendif\r\n#F"))) ∷  -- further-371
    (codes "override a.b ::= -g -O2\\\n\t-g b # c\n\tcc -s x\nc: b& a x.o | b\na: x.o\\\n x.o\nc d: b& x.o $(w a)\n\tcc -s x\n", ExchangeLines (OfRun None (block_lines (codes "c: b& a x.o | b"))) [], Accepted 0 1 (span 44 60 [] ∷ []) (Becomes (codes "override a.b ::= -g -O2\\\n\t-g b # c\n\tcc -s x\na: x.o\\\n x.o\nc d: b& x.o $(w a)\n\tcc -s x\n"))) ∷  -- further-372
    (codes " # \r\nc: a\r\nX = 1\r\n-include b.mk\r\ndefine D\r\nX = 1\r\n\tababa aaa\r\n#override\texport X := b", ExchangeLines (OfRuleRun None (codes "c")) [], Accepted 0 1 (span 5 11 [] ∷ []) (Becomes (codes " # \r\nX = 1\r\n-include b.mk\r\ndefine D\r\nX = 1\r\n\tababa aaa\r\n#override\texport X := b"))) ∷  -- further-373
    (codes "F = -O2\\\n\tb $x \\ # \\\n d\nF ::= ; \\\r\n \noverride F\\\n= a\\  x$(a  b) -O2 \n# F=-g b\nF ::= = |\\\n b ;\na: b", EachLine (ChangeEach (codes "F") (edits.Substitute (codes "  ") (codes "$"))), Accepted 1 1 (span 53 55 (codes "$") ∷ span 59 61 (codes "$") ∷ []) (Becomes (codes "F = -O2\\\n\tb $x \\ # \\\n d\nF ::= ; \\\r\n \noverride F\\\n= a\\$x$(a$b) -O2 \n# F=-g b\nF ::= = |\\\n b ;\na: b"))) ∷  -- further-374
    (codes "c: # c\r\n\t\r\n\ta\\\r\n b\r\nelse\r\n\tababa aaa\r\na: b\r\nF\\\r\n= -O2\t-g -g\\\r\n= \r\n", SwitchLine CommentOut None (codes "$(X)"), NotTried (BadArgument field.Name)) ∷  -- further-375
    (codes "c: a\n>>a\nifdef A\ndefine D\nendef", ChangePrereqs None (codes "c") (ReplacePrereq (codes "include") (codes "b")), NotTried Absent) ∷  -- further-376
    (codes "\t\\\r\n$(p #) &: \\\n   | \\\n$x $$\nc d: x.o | a d\n\tcc -s \\\n>y\nc: a\n\ta\n\tt", ExchangeLines (OfRuleRun None (codes "c")) (block_lines (codes "x \\\n")), NotMade 1 (Ambiguous 2)) ∷  -- further-377
    (codes "F=-O2\\\r\n$(s (b) a)\\\r\n\ta$ \r\nF=a b\r\n$(call t,x)\r\n\t  cc $$f; \\", ChangeLine (Some 2) (codes "F") (edits.InsertWord After (codes "a") (codes "-O3")), Accepted 1 1 (span 30 30 (codes " -O3") ∷ []) (Becomes (codes "F=-O2\\\r\n$(s (b) a)\\\r\n\ta$ \r\nF=a -O3 b\r\n$(call t,x)\r\n\t  cc $$f; \\"))) ∷  -- further-378
    (codes "F ?= x=\n\\\n\\\n\n", ChangeValue (One None) (codes "F") (edits.SetIf (codes "x=") (codes "-g")), Accepted 1 1 (span 5 7 (codes "-g") ∷ []) (Becomes (codes "F ?= -g\n\\\n\\\n\n"))) ∷  -- further-379
    (codes "i: a b a | a d\n\tcc -s x\n\tcc -s y; cc -s z\n\ta\\\r\n\tb\nX ==  -g \\ b\t-O2 \\\r\n \nX =  #-g\nd: a | b\n\ta # b\nX\\\n:== \\\nx=1\\\n\\\n# a \\\\\nd:: a | b\n># n\n>\n>rm -f x\n>rm -rf x\n", EachLine (ChangeEach (codes "X") (edits.Substitute (codes " \\ b\t") (codes "ab"))), Accepted 1 1 (span 58 63 (codes "ab") ∷ []) (Becomes (codes "i: a b a | a d\n\tcc -s x\n\tcc -s y; cc -s z\n\ta\\\r\n\tb\nX ==  -gab-O2 \\\r\n \nX =  #-g\nd: a | b\n\ta # b\nX\\\n:== \\\nx=1\\\n\\\n# a \\\\\nd:: a | b\n># n\n>\n>rm -f x\n>rm -rf x\n"))) ∷  -- further-380
    (codes "ifdef A\noverride\\\n?= -O2\\\n\\\nx=1\\\n\ta\nendif\nF = -g -g\n\t\nc::\n# n\n\ta\nc: a | b\n# n\n\ta\nF = a\nc::\n\ta a\nF = a\nc:\nifdef A\n\ta\nendif\n\n\tb\nc: a | b\n# n\n\ta\n", ChangeLine (Some 3) (codes "F") (edits.Prepend (codes "|")), Accepted 1 1 (span 100 100 (codes "| ") ∷ []) (Becomes (codes "ifdef A\noverride\\\n?= -O2\\\n\\\nx=1\\\n\ta\nendif\nF = -g -g\n\t\nc::\n# n\n\ta\nc: a | b\n# n\n\ta\nF = a\nc::\n\ta a\nF = | a\nc:\nifdef A\n\ta\nendif\n\n\tb\nc: a | b\n# n\n\ta\n"))) ∷  -- further-381
    (codes "F !=Ã©\nF\\\n::= b\t$(a b) \n", ExchangeLines (OfRun None (block_lines (codes "F\\\n::= b\t$(a b) "))) (block_lines (codes "\tfor f in x; do \\")), NotMade 1 (BadArgument field.Block)) ∷  -- further-382
    (codes "c d: \\\r\n x.o\r\n\tcc -s x\r\n\t#F = t\r\nF=a\\\r\n $x \\\r\n a\\ \\\r\n-O2\r\nF = a\r\nc d: b\r\nifdef A\r\nF\\\r\n= x$(a  b)\\\r\n$(a\tb) ; -O2 \\\r\n a:b\r\n", ExchangeLines (AtPlace (AfterLastVar (codes "F"))) (block_lines (codes "tX = 1")), Accepted 1 0 (span 121 121 (codes "tX = 1\r\n") ∷ []) (Becomes (codes "c d: \\\r\n x.o\r\n\tcc -s x\r\n\t#F = t\r\nF=a\\\r\n $x \\\r\n a\\ \\\r\n-O2\r\nF = a\r\nc d: b\r\nifdef A\r\nF\\\r\n= x$(a  b)\\\r\n$(a\tb) ; -O2 \\\r\n a:b\r\ntX = 1\r\n"))) ∷  -- further-383
    (codes "override define X =\nF = -g\nendef\nexport X\\\n::= $(A -g) x$(a  b) a \n# F is on\n# override \\\n X = 1\nX = 1\nF = -g\ni:  | b\n# n\n\tfor f in x; do \\\n\t  cc $$f; \\\n\tdone", ChangeLine (Some 2) (codes "X") (edits.SetOperator Append), Accepted 1 1 (span 99 100 (codes "+=") ∷ []) (Becomes (codes "override define X =\nF = -g\nendef\nexport X\\\n::= $(A -g) x$(a  b) a \n# F is on\n# override \\\n X = 1\nX += 1\nF = -g\ni:  | b\n# n\n\tfor f in x; do \\\n\t  cc $$f; \\\n\tdone"))) ∷  -- further-384
    (codes "\t  cc $$f; \\\n\nX = 1\noverride F != -g b a$\\ \\\n    a:b b \nc:\n\tx \\ y\n\ta\\\\\n\n#export = 1\nF = \\\\\\\\ \n", EachLine (SubstRecipes (codes "a\\\\") (codes "x")), Accepted 1 1 (span 67 70 (codes "x") ∷ []) (Becomes (codes "\t  cc $$f; \\\n\nX = 1\noverride F != -g b a$\\ \\\n    a:b b \nc:\n\tx \\ y\n\tx\n\n#export = 1\nF = \\\\\\\\ \n"))) ∷  -- further-385
    (codes "# export F = a\na\\b: c\n$(call t,x)\n", AddLine (AfterLastVar (codes "F")) (NewAssign (codes "F") Simple (codes "x$(a  b)")), NotMade 1 NoSuch) ∷  -- further-386
    (codes "a\\b: c\ndefine D\nendef\nc: a | b\n\tsay \"q\"\n\t\nifeq (a,b)\noverride F = \\\n    ; -O2\\\na | # c\ndefine D \\\n e\n\tababa aaa\n\tdone\n\nendef\nifdef B\nc::\n\ta a\nF = a\nc: a | b\nifdef A\n\ta\nendif\nF = a\nendif\n", ChangeLine (Some 3) (codes "F") (edits.Substitute (codes ";") (codes "#")), NotTried Absent) ∷  -- further-387
    (codes "a.b\\\n=  # \\\n d\ninclude a.mk\nF\\\n::= -O2\tb \ni: $(w a) b ; true\nendef", ChangeLine None (codes "F") (edits.SetOperator Shell), Accepted 1 1 (span 31 34 (codes "!=") ∷ []) (Becomes (codes "a.b\\\n=  # \\\n d\ninclude a.mk\nF\\\n!= -O2\tb \ni: $(w a) b ; true\nendef"))) ∷  -- further-388
    (codes "F = -g\nexport override= a\nendef\n \nF = a \\\nxport F ?= -g\n", EachLine (SubstValues (codes "-g") (codes "-O3")), Accepted 2 2 (span 4 6 (codes "-O3") ∷ span 53 55 (codes "-O3") ∷ []) (Becomes (codes "F = -O3\nexport override= a\nendef\n \nF = a \\\nxport F ?= -O3\n"))) ∷  -- further-389
    (codes "#X = 1\nc: a\n\ttrue\nX = 1\nvpath %.c a\n\ttrue\nF =a #\n#c \\\n d\nc: # c\n\tifdef Q\n\trm -rf x\nendif\n\ta # b", AddLine (AfterLastVar (codes "X")) (NewRule (codes "c") Single []), Accepted 1 0 (span 24 24 (codes "c:\n") ∷ []) (Becomes (codes "#X = 1\nc: a\n\ttrue\nX = 1\nc:\nvpath %.c a\n\ttrue\nF =a #\n#c \\\n d\nc: # c\n\tifdef Q\n\trm -rf x\nendif\n\ta # b"))) ∷  -- further-390
    (codes "c:\nifdef A\n\ta\nendif\nF = a\nc:\n\ta\nifdef A\n\tb\nX = 1\nendif\n", ChangeLine None (codes "F") (edits.InsertWord Before (codes "a") (codes "$(new a)")), Accepted 1 1 (span 24 24 (codes "$(new a) ") ∷ []) (Becomes (codes "c:\nifdef A\n\ta\nendif\nF = $(new a) a\nc:\n\ta\nifdef A\n\tb\nX = 1\nendif\n"))) ∷  -- further-391
    (codes "F=b \\\r\n ; -g\nF += a b\nF=a b\noverride\\\n= $ $(u\\\na\nF = -O2 x=1# c", EachLine (SubstValues (codes "x=1") (codes "a b")), Accepted 1 1 (span 57 60 (codes "a b") ∷ []) (Becomes (codes "F=b \\\r\n ; -g\nF += a b\nF=a b\noverride\\\n= $ $(u\\\na\nF = -O2 a b# c"))) ∷  -- further-392
    (codes "#X = r\\\r\n s\n.RECIPEPREFIX = >\n#>X = 1\nF :=\\\n= b b# a \\\\\ndefine D\n", EachLine (SubstValues (codes ">") (codes "}")), NotTried Absent) ∷  -- further-393
    (codes "c: b b& $(w a)\n\nF= =\na.b +=-g a \\\nÃ©\n\t\\\n\nb\ndefine(\n{=+\n#X ?= $(x) # n\n", EachLine (ChangeEach (codes "F") (edits.Substitute (codes "\\") (codes "-O3"))), NotTried Absent) ∷  -- further-394
    (codes "F = b  -g b\nX = -g b\t-g -g# \\\n d\n", EachLine (ChangeEach (codes "F") (edits.ReplaceWord (codes "b") (codes "="))), Accepted 1 1 (span 4 5 (codes "=") ∷ span 10 11 (codes "=") ∷ []) (Becomes (codes "F = =  -g =\nX = -g b\t-g -g# \\\n d\n"))) ∷  -- further-395
    (codes ".RECIPEPREFIX = t\nF := -O2 \\\n \\\n $\\\\\n a -g a# \\\n d\n", ExchangeLines (AtPlace (BeforeVar None (codes "F"))) (block_lines (codes "\n\tfor f in x; do \\")), NotMade 2 (BadArgument field.Block)) ∷  -- further-396
    (codes "c:  | b\n# n\n\tfor f in x; do \\\n\t  cc $$f; \\\n\tdone\n", ExchangeLines (AfterRun (Some 0) (block_lines (codes "# n\n\tfor f in x; do \\\n\t  cc $$f; \\\n\tdone"))) (block_lines (codes "vpath %.c a")), NotMade 1 NoSuch) ∷  -- further-397
    (codes "F\\\n= -O2 -\\\n\tb $(s (b) a) \\\n$#\n#F \\\n= 1\nendefoverride = 1", SwitchLine CommentOut None (codes "endefoverride"), Accepted 1 1 (span 40 40 (codes "#") ∷ []) (Becomes (codes "F\\\n= -O2 -\\\n\tb $(s (b) a) \\\n$#\n#F \\\n= 1\n#endefoverride = 1"))) ∷  -- further-398
    (codes "c:\nifdef A\n\ta\nendif\n\n\tb\nF = a\nc: ; true\n\ta\n\trm -rf x\nF= | \\\r\n -g \\\n \\\n x=1 = b \nF ?= \\ $(t \\\n -g) -g\\\n\\\n-g a\nX ::= \\\\\n", EachLine (SubstValues (codes ") -g -g a") (codes "x")), Accepted 1 1 (span 96 108 (codes "x") ∷ []) (Becomes (codes "c:\nifdef A\n\ta\nendif\n\n\tb\nF = a\nc: ; true\n\ta\n\trm -rf x\nF= | \\\r\n -g \\\n \\\n x=1 = b \nF ?= \\ $(t \\\n -gx\nX ::= \\\\\n"))) ∷  -- further-399
    []

answers_8 : map (λ row. account row.0 row.1) rows_8 ≡ map (λ row. row.2) rows_8
answers_8 = refl

abbrev rows_9 : List (List ℕ × Edit × Account)
rows_9 =
    (codes "X = 1\r\nelse\r\nendef\r\nF=-O2 a \\\r\n a\\ ", ChangeLine None (codes "X") (edits.ReplaceWord (codes "1") (codes "a")), Accepted 1 1 (span 4 5 (codes "a") ∷ []) (Becomes (codes "X = a\r\nelse\r\nendef\r\nF=-O2 a \\\r\n a\\ "))) ∷  -- further-400
    (codes "c: a\nifdef A\n\ta\nendif\n\n\tb\nF = a\n# t = 1\noverride define X =\nc: a\nendef\nF += a\n\ttrue\n\tfor f in x; do \\\n", EachLine (ChangeEach (codes "F") (edits.Prepend (codes "a$ b"))), Accepted 2 2 (span 30 30 (codes "a$ b ") ∷ span 76 76 (codes "a$ b ") ∷ []) (Becomes (codes "c: a\nifdef A\n\ta\nendif\n\n\tb\nF = a$ b a\n# t = 1\noverride define X =\nc: a\nendef\nF += a$ b a\n\ttrue\n\tfor f in x; do \\\n"))) ∷  -- further-401
    (codes "override define X =\n\t  cc $$f; \\\nX = 1\nendef\nd c:\n # n\n>a\n>\nF=-g\nF=a -O2 ;\nF=-g\nX = 1\n\n", AddLine (AfterRule None (codes "c")) (NewAssign (codes "X") Shell (codes "x=1")), Accepted 1 0 (span 50 50 (codes "X != x=1\n") ∷ []) (Becomes (codes "override define X =\n\t  cc $$f; \\\nX = 1\nendef\nd c:\nX != x=1\n # n\n>a\n>\nF=-g\nF=a -O2 ;\nF=-g\nX = 1\n\n"))) ∷  -- further-402
    (codes "override define X =\n\tcc -s x\n\tdone\noverride :=a \\\n    x$(a  b)  -g\\\n\\\n$ \nF= a a\n\\\n!\nF != -g\tb# a \\\\\\", AddLine Bottom (NewRule (codes "x.o") Double (codes "a")), NotMade 1 OpenLine) ∷  -- further-403
    (codes "c::\n\ta a\nc: a | b\n# n\n\ta\nF = a\nc: a\nendif\ndefine D\n$(call t,x)\nX = ababa\nendef\nF !=-g \\\n    b a b a# a \\\\\nX\\\n?=-O2 ;# a \\\\\n", AddLine Top (NewRule (codes "c") Single (codes "a")), Accepted 1 0 (span 0 0 (codes "c: a\n") ∷ []) (Becomes (codes "c: a\nc::\n\ta a\nc: a | b\n# n\n\ta\nF = a\nc: a\nendif\ndefine D\n$(call t,x)\nX = ababa\nendef\nF !=-g \\\n    b a b a# a \\\\\nX\\\n?=-O2 ;# a \\\\\n"))) ∷  -- further-404
    (codes "a.b\\\n+=|\\\n = -g\n\t$x a$\\\na: $(w a) | b\n\ttrue\nF= \\\n    b $x $(a\tb)  =  b ", EachLine (SubstValues (codes "= -g") []), Accepted 1 1 (span 11 15 [] ∷ []) (Becomes (codes "a.b\\\n+=|\\\n \n\t$x a$\\\na: $(w a) | b\n\ttrue\nF= \\\n    b $x $(a\tb)  =  b "))) ∷  -- further-405
    (codes ".RECIPEPREFIX = >\n\nF = -g\n", EachLine (SubstValues (codes "a\r") (codes "ab")), NotTried (BadArgument field.From)) ∷  -- further-406
    (codes ".RECIPEPREFIX = F\n\\\r\n&: \\\n  a.b != $ $(a b) \nc: a\nifdef A\n\ta\nendif\n\n\tb\nX= $(u a \\\r\n -g# a \\\\\nX\\\n::=\\ b \\\r\n b $x\\\n\t|# \\\n d", ChangeLine (Some 2) (codes "X") (edits.Prepend (codes "x=1")), Accepted 1 1 (span 99 99 (codes "x=1 ") ∷ []) (Becomes (codes ".RECIPEPREFIX = F\n\\\r\n&: \\\n  a.b != $ $(a b) \nc: a\nifdef A\n\ta\nendif\n\n\tb\nX= $(u a \\\r\n -g# a \\\\\nX\\\n::=x=1 \\ b \\\r\n b $x\\\n\t|# \\\n d"))) ∷  -- further-407
    (codes "override F := |\t$(A -g)\r\nF\\\n!= a\t-O2 x=1 \\\na:b\n{ = \\\n \\\n $x\\\n-g $", AddLine (AfterVar (Some 2) (codes "F")) (NewRule (codes "c") Double []), Accepted 1 0 (span 47 47 (codes "c::\r\n") ∷ []) (Becomes (codes "override F := |\t$(A -g)\r\nF\\\n!= a\t-O2 x=1 \\\na:b\nc::\r\n{ = \\\n \\\n $x\\\n-g $"))) ∷  -- further-408
    (codes "ifdef A\nexport override= x=1 $\\ -g\nelse\noverride := $(a\tb)# c\nendif\n#F = a\\\n", ChangeLine None (codes "X") (edits.ReplaceWord (codes "-g") (codes "a:b \\\\a")), NotTried NoSuch) ∷  -- further-409
    (codes ".RECIPEPREFIX = >\nc: a | b\n\ta\nifdef A\n\tb\nelse\n\ta\nendif\n\n\nc: a | b\n\ta\nifdef A\n\tb\nelse\n\ta\nendif\n\n#>X = 1\noverride define X =\n\tababa aaa\nF += a\nendef\nX = ababa\nvpath %.c a\nifdef A\nX = 1\n", ChangeLine None (codes "X") (edits.Substitute (codes "b") []), NotTried (Ambiguous 2)) ∷  -- further-410
    (codes "ifdef A\r\nX= -O2 $ \\\r\n\\\r\na \\\r\n    b# c\r\nelse\r\nexport F\\\r\n?= $\\\r\n#\r\nendif\r\n#F = a\\\r\ni:  | b\r\n\tcc -s y; cc -s z\r\n\tcc -s x\r\nendif\r\n#X = a\\\\ \\\r\n b\r\ni: b& | b\r\nendif\r\n\r\n\ttrue\r\nF += a\r\nF = a:b \\\r\n \\\r\n $$ -g -g -O2\r\nF=a:b \\\r\n \\\r\n $$ -g -g -O2\r\n", ChangePrereqs (Some 0) (codes "i") (ReplacePrereq (codes "i") (codes "foo")), NotTried NoSuch) ∷  -- further-411
    (codes "F += a\r\nF=a\nF += a\nc d: $(w a) | a d\nifdef A\n\tababa aaa\n-include b.mk\nifdef A\nd: # c\n\t\n\tx \\ y\nexport F = $\\\n", ChangeLine (Some 2) (codes "F") (edits.InsertWord Before (codes "a") (codes "x.c")), Accepted 1 1 (span 10 10 (codes "x.c ") ∷ []) (Becomes (codes "F += a\r\nF=x.c a\nF += a\nc d: $(w a) | a d\nifdef A\n\tababa aaa\n-include b.mk\nifdef A\nd: # c\n\t\n\tx \\ y\nexport F = $\\\n"))) ∷  -- further-412
    (codes "\n \n-include b.mk\nX=|\t$(A -g)\ni: $(w a) x.o b\n\tcc -s x\n\tfor f in x; do \\\n\t  cc $$f; \\\n\tdone\n\tcc -s x\\", ChangeLine (Some 1) (codes "X") (edits.Prepend (codes "a:b x=1")), Accepted 1 1 (span 19 19 (codes "a:b x=1 ") ∷ []) (Becomes (codes "\n \n-include b.mk\nX=a:b x=1 |\t$(A -g)\ni: $(w a) x.o b\n\tcc -s x\n\tfor f in x; do \\\n\t  cc $$f; \\\n\tdone\n\tcc -s x\\"))) ∷  -- further-413
    (codes "#\t\t Y !=b\r\ndefine D \\\r\n e\r\ninclude a.mk\r\n\tdone\r\nF = aaa aaaa # aa\r\nendef\r\nF = aaa aaaa # aa\r\nelse\r\nF = a \\\r\nifdef A\r\nF\\\r\n::= $  -g x$(a  b) $(t \\\r\n -g) # a \\\\\r\nendif\r\nc: a | b\r\n.RECIPEPREFIX = >", AddLine Top (NewAssign (codes "F") Immediate (codes "b")), Accepted 1 0 (span 0 0 (codes "F :::= b\r\n") ∷ []) (Becomes (codes "F :::= b\r\n#\t\t Y !=b\r\ndefine D \\\r\n e\r\ninclude a.mk\r\n\tdone\r\nF = aaa aaaa # aa\r\nendef\r\nF = aaa aaaa # aa\r\nelse\r\nF = a \\\r\nifdef A\r\nF\\\r\n::= $  -g x$(a  b) $(t \\\r\n -g) # a \\\\\r\nendif\r\nc: a | b\r\n.RECIPEPREFIX = >"))) ∷  -- further-414
    (codes "#\nc:  ; true\n\tcc -s y; cc -s z\nifdef A\n", EachLine (SubstRecipes (codes "-s") (codes "yy")), Accepted 1 1 (span 17 19 (codes "yy") ∷ span 26 28 (codes "yy") ∷ []) (Becomes (codes "#\nc:  ; true\n\tcc yy y; cc yy z\nifdef A\n"))) ∷  -- further-415
    (codes "ifdef A\r\nexport X+= $# \r\nelse\r\noverride F= a:b -g# c\r\nendif\r\n", SwitchLine CommentOut None (codes "F"), Accepted 1 1 (span 31 31 (codes "#") ∷ []) (Becomes (codes "ifdef A\r\nexport X+= $# \r\nelse\r\n#override F= a:b -g# c\r\nendif\r\n"))) ∷  -- further-416
    (codes "override F\\\n=-g $(s (b) a) -g x$(a  b)#", ExchangeLines (AtPlace (BeforeVar None (codes "F"))) (block_lines (codes "F = a \\\n  b")), Accepted 1 0 (span 0 0 (codes "F = a \\\n  b\n") ∷ []) (Becomes (codes "F = a \\\n  b\noverride F\\\n=-g $(s (b) a) -g x$(a  b)#"))) ∷  -- further-417
    (codes "ifdef A\r\na.b\\\r\n= -g b -g#\r\nendif\r\n", SwitchLine CommentOut None (codes "a.b"), Accepted 1 1 (span 9 9 (codes "#") ∷ []) (Becomes (codes "ifdef A\r\n#a.b\\\r\n= -g b -g#\r\nendif\r\n"))) ∷  -- further-418
    (codes "c:: ;\n\t\noverride F=\\\n\\\n\n\t a\nexport F += x=1 \nc: ; true\n\ttrue\n\trm -f x", EachLine (SubstRecipes (codes "rue") []), Accepted 1 1 (span 57 60 [] ∷ []) (Becomes (codes "c:: ;\n\t\noverride F=\\\n\\\n\n\t a\nexport F += x=1 \nc: ; true\n\tt\n\trm -f x"))) ∷  -- further-419
    (codes "F\\\n= ${v a\\\na:b -g\\\n a:b \nF += b\nF += b\nF=b\n", EachLine (SubstValues (codes "b") (codes "yy")), Accepted 4 4 (span 14 15 (codes "yy") ∷ span 23 24 (codes "yy") ∷ span 31 32 (codes "yy") ∷ span 38 39 (codes "yy") ∷ span 42 43 (codes "yy") ∷ []) (Becomes (codes "F\\\n= ${v a\\\na:yy -g\\\n a:yy \nF += yy\nF += yy\nF=yy\n"))) ∷  -- further-420
    (codes "ifdef A\nX= -O2 -g # a \\\\\nelse\nX= $(w \\\n a) = x$(a  b)\\\n-g#-g\nendif\n", EachLine (ChangeEach (codes "X") (edits.ReplaceWord (codes "-g") (codes "a "))), NotTried (BadArgument field.Value)) ∷  -- further-421
    (codes "ifdef A\nX= a \nelse\nF ?= -g -O2 \\\r\n # \\\n d\nendif\nexport override\\\n=  -O2\\\n\ta:b ; $(t \\\n -g)#\nF =$x \\\n    -g -g\noverride!=$\\\n# a \\\\\ninclude a.mk\nelse\n  b", ChangeLine (Some 2) (codes "F") (edits.InsertWord Before (codes "$x") (codes "-O3")), Accepted 1 1 (span 95 95 (codes "-O3 \\\n    ") ∷ []) (Becomes (codes "ifdef A\nX= a \nelse\nF ?= -g -O2 \\\r\n # \\\n d\nendif\nexport override\\\n=  -O2\\\n\ta:b ; $(t \\\n -g)#\nF =-O3 \\\n    $x \\\n    -g -g\noverride!=$\\\n# a \\\\\ninclude a.mk\nelse\n  b"))) ∷  -- further-422
    (codes "X = -O2\nX=-O2\n#override = 1\n", ChangeLine (Some 1) (codes "X") (edits.Prepend (codes "-g")), Accepted 1 1 (span 4 4 (codes "-g ") ∷ []) (Becomes (codes "X = -g -O2\nX=-O2\n#override = 1\n"))) ∷  -- further-423
    (codes "#F = a\\", AddLine (BeforeRule (Some 1) []) (NewRule (codes "c") Double (codes "a b")), NotMade 1 (BadArgument field.Place)) ∷  -- further-424
    (codes "i: $(w a) x.o b | a d\n# n\n\tcc -s x\nF ::= ; b\\\n\\\na:b\n", ChangeLine None (codes "F") (edits.ReplaceWord (codes "b") (codes "b x$(a  b)")), Accepted 1 1 (span 43 44 (codes "b x$(a  b)") ∷ []) (Becomes (codes "i: $(w a) x.o b | a d\n# n\n\tcc -s x\nF ::= ; b x$(a  b)\\\n\\\na:b\n"))) ∷  -- further-425
    (codes "F= x=1 a:b\noverride F ::= = b =\\\n| \ndefine D\n#F\nc:\n\ta a\nF = a\n#F = a\\\n", ChangeLine (Some 2) (codes "F") (edits.SetOperator Append), Accepted 1 1 (span 22 25 (codes "+=") ∷ []) (Becomes (codes "F= x=1 a:b\noverride F += = b =\\\n| \ndefine D\n#F\nc:\n\ta a\nF = a\n#F = a\\\n"))) ∷  -- further-426
    (codes "F += a\r\na.b = -g \\\n \\\n |\nc d: a\n\ta\\\r\n\tb\nifdef A\n\ttrue\n", AddLine Top (NewRule (codes "c") Single (codes "a b")), Accepted 1 0 (span 0 0 (codes "c: a b\r\n") ∷ []) (Becomes (codes "c: a b\r\nF += a\r\na.b = -g \\\n \\\n |\nc d: a\n\ta\\\r\n\tb\nifdef A\n\ttrue\n"))) ∷  -- further-427
    (codes "endef\nX = 1", ChangeValue Every (codes "X") (edits.SetIf (codes "1") []), Accepted 1 1 (span 10 11 [] ∷ []) (Becomes (codes "endef\nX = "))) ∷  -- further-428
    (codes "X=-g $\\ = # c\nd:\n\ta\\\n b\n\t\\\n\n\ttrue\n", EachLine (ChangeEach (codes "X") (edits.Substitute [] (codes "\t"))), NotTried (BadArgument field.From)) ∷  -- further-429
    (codes "\t\n$(call t,x)\nF = -g\n#X = 1\nc d: $(w a) x.o $(w a) | a d\n# n\n# n\n\tcc -s x\n", EachLine (ChangeEach (codes "F") (edits.Substitute (codes "-g") [])), Accepted 1 1 (span 18 20 [] ∷ []) (Becomes (codes "\t\n$(call t,x)\nF = \n#X = 1\nc d: $(w a) x.o $(w a) | a d\n# n\n# n\n\tcc -s x\n"))) ∷  -- further-430
    (codes ".RECIPEPREFIX = F\nX = 1\noverride\\\n=\t= \\\n \\\n $# $$ \ndefine D\n\tfor f in x; do \\\nF += a\ninclude a.mk\nendef\n#override = 1\nF\\\n= -g\nifdef A\nF\\\n= b\\\n\tb \\\r\n ${v a\nendif", AddLine (AfterLastVar (codes "F")) (NewRule (codes "x.o") Double (codes "a b")), Accepted 1 0 (span 155 155 (codes "x.o:: a b\n") ∷ []) (Becomes (codes ".RECIPEPREFIX = F\nX = 1\noverride\\\n=\t= \\\n \\\n $# $$ \ndefine D\n\tfor f in x; do \\\nF += a\ninclude a.mk\nendef\n#override = 1\nF\\\n= -g\nifdef A\nF\\\n= b\\\n\tb \\\r\n ${v a\nx.o:: a b\nendif"))) ∷  -- further-431
    (codes "X = 1\na\\b: c\noverride = $(s (b) a) \\\n \\\n -O2\noverride = a b\nF=; \nc: a\nifdef A\n#F\n", EachLine (SubstValues (codes "-O2") (codes "aa")), Accepted 1 1 (span 41 44 (codes "aa") ∷ []) (Becomes (codes "X = 1\na\\b: c\noverride = $(s (b) a) \\\n \\\n aa\noverride = a b\nF=; \nc: a\nifdef A\n#F\n"))) ∷  -- further-432
    (codes "a: $(w a) $(w a)\r\n\tcc -s x\r\n\tcc -s x\r\nF\\\r\n= $\\\r\n b a$  $\\# c ", ChangeLine (Some 2) (codes "F") (edits.ReplaceWord (codes "$ b") (codes "$(u $(t -g)")), NotTried (BadArgument field.Value)) ∷  -- further-433
    (codes "define D\n\tdone\nendef\noverride= b $ \\\n\n", AddLine (AfterLastVar (codes "override")) (NewAssign (codes "F") Shell (codes "$(a b) $(u")), NotMade 1 (BadArgument field.Value)) ∷  -- further-434
    (codes "d:: a\nifdef A\n\tt\n# n\nendif\ndefine D \\\n e\nF = a \\\nendef\n#\t\t Y !=b\ndefine D\nX = ababa\na\\b: c\n# n\nendef\\", EachLine (SubstRecipes (codes "t") (codes "a b")), Accepted 1 1 (span 15 16 (codes "a b") ∷ []) (Becomes (codes "d:: a\nifdef A\n\ta b\n# n\nendif\ndefine D \\\n e\nF = a \\\nendef\n#\t\t Y !=b\ndefine D\nX = ababa\na\\b: c\n# n\nendef\\"))) ∷  -- further-435
    (codes "a: b a | b\n", ChangePrereqs None (codes "a") (ReplacePrereq (codes "b") (codes "%.o")), Accepted 1 1 (span 3 4 (codes "%.o") ∷ span 9 10 (codes "%.o") ∷ []) (Becomes (codes "a: %.o a | %.o\n"))) ∷  -- further-436
    (codes "a.b=-g\na.b=b b\nendef\nF = -g\\\n", ExchangeLines (AtPlace (BeforeRule None (codes "d"))) (block_lines (codes "\tcc -s x\n\t")), NotMade 2 NoSuch) ∷  -- further-437
    (codes "  b\n#X = 1\nifdef A\nF +=#-g\nendif\nF= a:b#\nifdef B\nc: a | b\n\ta\nifdef A\n\tb\nelse\n\ta\nendif\n\nc:\n# n\n\ta\nF = a\nelse\n\tx\nendif\n# F is on ", ChangeLine None (codes "F") (edits.SetOperator Conditional), NotTried (Ambiguous 3)) ∷  -- further-438
    (codes "c::\r\n\t\ttrue\nifeq (a,b)\n\tsay \"q\"\nifdef A\nF != =  -O2 \nelse\nF= a \nendif\n", EachLine (SubstRecipes (codes "true") (codes "ab")), Accepted 1 1 (span 7 11 (codes "ab") ∷ []) (Becomes (codes "c::\r\n\t\tab\nifeq (a,b)\n\tsay \"q\"\nifdef A\nF != =  -O2 \nelse\nF= a \nendif\n"))) ∷  -- further-439
    (codes "define D\r\nX = ababa\nF = -g\na\\b: c\nendef\r", AddLine (BeforeVar None (codes "F")) (NewAssign (codes "F") PosixSimple (codes "-g")), NotMade 1 NoSuch) ∷  -- further-440
    (codes ".RECIPEPREFIX = X\nF += a b\nF += a b\nF = $(s (b) a) b $$\r", ChangeLine (Some 1) (codes "F") (edits.ReplaceWord (codes "b") (codes "x$(a  b)")), Accepted 1 1 (span 25 26 (codes "x$(a  b)") ∷ []) (Becomes (codes ".RECIPEPREFIX = X\nF += a x$(a  b)\nF += a b\nF = $(s (b) a) b $$\r"))) ∷  -- further-441
    (codes "F =\t-g\\\na\n#\t\t Y !=b\nF = a b\nF = -O2\tb\nF=-O2\tb\n", ChangeLine (Some 1) (codes "F") (edits.ReplaceWord (codes "-g") (codes "x=1")), Accepted 1 1 (span 4 6 (codes "x=1") ∷ []) (Becomes (codes "F =\tx=1\\\na\n#\t\t Y !=b\nF = a b\nF = -O2\tb\nF=-O2\tb\n"))) ∷  -- further-442
    (codes "export F !=$(w \\\n a) -g \nifdef A\nX= -O2 \\\r\n \\\\ a#-g\nendif", ChangeLine (Some 4294967295) [] (edits.Substitute [] (codes "$(")), NotTried (BadArgument field.Name)) ∷  -- further-443
    (codes "c::\r\n\ta\r\nifdef A\r\n\tb\r\nelse\r\n\ta\r\nendif\r\n\r\nF = a:b x$(a  b) b\r\nF = a b\r\noverride define X =\r\nX = ababa\r\nX = ababa\r\nendef\r\n", ChangeLine (Some 2) (codes "F") (edits.ReplaceWord (codes "a") (codes "b")), Accepted 1 1 (span 65 66 (codes "b") ∷ []) (Becomes (codes "c::\r\n\ta\r\nifdef A\r\n\tb\r\nelse\r\n\ta\r\nendif\r\n\r\nF = a:b x$(a  b) b\r\nF = b b\r\noverride define X =\r\nX = ababa\r\nX = ababa\r\nendef\r\n"))) ∷  -- further-444
    (codes "  # a.b += x \\\n  y\nc:\nc: a\nifdef A\n\ta\nendif\ni:  | b\nendif\n\tcc -s y; cc -s z\n", ExchangeLines (AtPlace (AfterVar (Some 2) [])) (block_lines (codes "else")), NotMade 1 (BadArgument field.Place)) ∷  -- further-445
    (codes "c d: b\r\n\tfor f in x; do \\\n\t  cc $$f; \\\n\tdone\n\n\tcc -s y; cc -s z\\", EachLine (SubstRecipes (codes "\\") (codes "/usr")), NotMade 2 Misread) ∷  -- further-446
    (codes "ifdef A\noverride X = a:b \nelse\noverride= ${c} $(a b)\\\n -O2 \\\r\n $\\\nendif\nF ?=a -g \\\r\n b\na\\b: c\nc: a\nifdef A\n", EachLine (ChangeEach (codes "F") (edits.Prepend [])), NotTried (BadArgument field.Value)) ∷  -- further-447
    (codes "define D \\\r\n e\n-include b.mk\n# n\nendef\n", ChangeLine (Some 0) (codes "override") (edits.InsertWord Before (codes "$(A -g)") (codes "a ")), NotTried (BadArgument field.New)) ∷  -- further-448
    (codes "ifdef A\noverride\\\n::= \nendif\ni: $(w a) x.o $(w a)\\\n x.o\n# n\nc: ; true\n>a\n>\nF += -g\nF = -O2 \\\n    | |\\\n$(a b) \\\\\n", EachLine (SubstValues (codes "a b) \\\\") (codes "x")), Accepted 1 1 (span 104 111 (codes "x") ∷ []) (Becomes (codes "ifdef A\noverride\\\n::= \nendif\ni: $(w a) x.o $(w a)\\\n x.o\n# n\nc: ; true\n>a\n>\nF += -g\nF = -O2 \\\n    | |\\\n$(x\n"))) ∷  -- further-449
    []

answers_9 : map (λ row. account row.0 row.1) rows_9 ≡ map (λ row. row.2) rows_9
answers_9 = refl

abbrev rows_10 : List (List ℕ × Edit × Account)
rows_10 =
    (codes ".RECIPEPREFIX = >\n\tfor f in x; do \\\n-include b.mk\nF = aaa aaaa # aa\n#exportF = 1\nF\\\n+= \\\\\\\\ a\n## F = 1\n", ChangeLine (Some 1) (codes "F") (edits.InsertWord Before (codes "aaa") (codes "$(new a)")), Accepted 1 1 (span 54 54 (codes "$(new a) ") ∷ []) (Becomes (codes ".RECIPEPREFIX = >\n\tfor f in x; do \\\n-include b.mk\nF = $(new a) aaa aaaa # aa\n#exportF = 1\nF\\\n+= \\\\\\\\ a\n## F = 1\n"))) ∷  -- further-450
    (codes "c: # c\n\t# n\nelse\nifdef A\nF = b \\\nb # \\\n d\nendif\na: $(w a) a\n\ta\\\r\n\tb\n#exportF = 1\n# t = 1\n", ChangeLine None (codes "F") (edits.SetOperator Immediate), Accepted 1 1 (span 27 28 (codes ":::=") ∷ []) (Becomes (codes "c: # c\n\t# n\nelse\nifdef A\nF :::= b \\\nb # \\\n d\nendif\na: $(w a) a\n\ta\\\r\n\tb\n#exportF = 1\n# t = 1\n"))) ∷  -- further-451
    (codes "c: ;\r\nifdef A\r\nX = ${c} -O2 \r\ninclude: ; true\r\n\ttrue\r\n\t a\r\n\t>a\r\na: b\r\n-include b.mk\r\nF += a\r\n", AddLine (BeforeRule None (codes "a")) (NewRule (codes "c") Single []), Accepted 1 0 (span 64 64 (codes "c:\r\n") ∷ []) (Becomes (codes "c: ;\r\nifdef A\r\nX = ${c} -O2 \r\ninclude: ; true\r\n\ttrue\r\n\t a\r\n\t>a\r\nc:\r\na: b\r\n-include b.mk\r\nF += a\r\n"))) ∷  -- further-452
    (codes "## F = 1\n%.o: a\n\t>a\n\trm -rf x\n# override \\\n X = 1\nc&: a\n\t\nifdef A\n\t\n\t a\n", AddLine Bottom (NewAssign (codes "F") Simple (codes "; a:b")), Accepted 1 0 (span 72 72 (codes "F := ; a:b\n") ∷ []) (Becomes (codes "## F = 1\n%.o: a\n\t>a\n\trm -rf x\n# override \\\n X = 1\nc&: a\n\t\nifdef A\n\t\n\t a\nF := ; a:b\n"))) ∷  -- further-453
    (codes ".RECIPEPREFIX = >\nc: a | b\nF?= a = a\\\n\ta:b# c\ninclude include: ;\n\tb\n\tt\n", ExchangeLines (AtPlace (BeforeVar None (codes "override"))) (block_lines (codes "x \\\n")), NotMade 1 NoSuch) ∷  -- further-454
    (codes "  b\n \na.b=b\na.b = b\n# t = 1\n", AddLine (AfterRule None []) (NewRule (codes "c") Single []), NotMade 1 (BadArgument field.Place)) ∷  -- further-455
    (codes ".RECIPEPREFIX = t\nifdef A\nF\\\n?=-g \nelse\nF:= a\\ # c\nendif\n#X = r\\\r\n s", EachLine (ChangeEach (codes "F") (edits.Substitute (codes "a\\ ") [])), Accepted 1 1 (span 44 47 [] ∷ []) (Becomes (codes ".RECIPEPREFIX = t\nifdef A\nF\\\n?=-g \nelse\nF:= # c\nendif\n#X = r\\\r\n s"))) ∷  -- further-456
    (codes "# private Y=c\nc: a | b\nifdef A\n\ta\nendif\n\n\tb\n", EachLine (SubstRecipes (codes "b") (codes "}")), Accepted 1 1 (span 42 43 (codes "}") ∷ []) (Becomes (codes "# private Y=c\nc: a | b\nifdef A\n\ta\nendif\n\n\t}\n"))) ∷  -- further-457
    (codes "override define X =\n\tfor f in x; do \\\n\ttrue\nendef\n\n\ttrue\nF = a \\", AddLine (AfterRule None (codes "include")) (NewRule (codes "c") Single (codes "a")), NotMade 1 Reserved) ∷  -- further-458
    (codes "c d: a b $(w a)\nifdef A\n\ttrue\n\tfor f in x; do \\\n\t  cc $$f; \\\n\tdone\nF = x=1\nF = a b\nifdef A\nF != -g \\ b\\\n\t-g b =\nelse\nF= -O2\ta:b\nendif\noverride !=a x=1\\\n\\\n#-g\nF\\\n=# a \\\\\n", SwitchLine CommentOut None (codes "F"), NotTried (Ambiguous 5)) ∷  -- further-459
    (codes "a: $(w a) $(w a) $(w a)\\\n x.o\n\n\tcc -s y; cc -s z\n\tcc -s y; cc -s z\nF== \\\r\n $(t \\\n -g)# \\\n d\nc: a | b\n>a # b\n>>a\n># n\nc: a\n\ta\n\tifdef Q\n\t# n\n%.c %.o ::: \\\n  $(q:;=|) | .PHONY  a#\n", SwitchLine CommentOut None (codes "F"), Accepted 1 1 (span 67 67 (codes "#") ∷ []) (Becomes (codes "a: $(w a) $(w a) $(w a)\\\n x.o\n\n\tcc -s y; cc -s z\n\tcc -s y; cc -s z\n#F== \\\r\n $(t \\\n -g)# \\\n d\nc: a | b\n>a # b\n>>a\n># n\nc: a\n\ta\n\tifdef Q\n\t# n\n%.c %.o ::: \\\n  $(q:;=|) | .PHONY  a#\n"))) ∷  -- further-460
    (codes "i: b $(w a) b&\n\tcc -s x\nF\\\n::= # a \\\\\n#\t\t Y !=b\ndefine D\n\ttrue\nF = -g\n\t  cc $$f; \\\nendef\noverride define X =\n\ninclude a.mk\nendef", AddLine (BeforeVar None (codes "F")) (NewRule (codes "c") Double []), Accepted 1 0 (span 24 24 (codes "c::\n") ∷ []) (Becomes (codes "i: b $(w a) b&\n\tcc -s x\nc::\nF\\\n::= # a \\\\\n#\t\t Y !=b\ndefine D\n\ttrue\nF = -g\n\t  cc $$f; \\\nendef\noverride define X =\n\ninclude a.mk\nendef"))) ∷  -- further-461
    (codes "a.b!= -O2 b\tb\nc d: x.o\n\ta\\\r\n\tb\n# n\n# n\nc: ;\nifeq (a,b)\n\t a\n\t# n\n\ta\n", ChangePrereqs None (codes "c") (ReplacePrereq (codes "d") (codes "x.o")), NotTried (Ambiguous 2)) ∷  -- further-462
    (codes "X = 1\r\n", EachLine (ChangeEach (codes "X") (edits.Prepend (codes "b b"))), Accepted 1 1 (span 4 4 (codes "b b ") ∷ []) (Becomes (codes "X = b b 1\r\n"))) ∷  -- further-463
    (codes "F :=-g \\\n \\\n b\\\n\\\n=\tx=1 a\n#X = r\\\r\n s\\", ChangeLine (Some 4294967295) (codes "$(X)") (edits.SetOperator Immediate), NotTried (BadArgument field.Name)) ∷  -- further-464
    (codes "a: x.o a | a d\n\ta\\\r\n\tb\n\ttrue\nc: a\n\ta\\\n>b\n\ttrue\n\ta \\\n\tb\n\ttrue\nX= -O2 b a \\\\\\\\\n", EachLine (ChangeEach (codes "X") (edits.Substitute (codes " \\") (codes "ab"))), NotMade 1 Misread) ∷  -- further-465
    (codes "a: \\\n x.o\n\tcc -s y; cc -s z\nendif\nifdef A\nb:| $$ # x ; y : z = 1\n", AddLine Top (NewAssign (codes "X") Conditional (codes "a\\")), NotMade 1 (BadArgument field.Value)) ∷  -- further-466
    (codes "override F += $ a # c\nelse\n#X = 1\ndefine D\n\ttrue\nendef\nX = 1\na: a b& | a d\n\ttrue\nX\\\n= a # c", AddLine (BeforeVar None (codes "X")) (NewRule (codes "c") Single (codes "a b")), NotMade 1 (Ambiguous 2)) ∷  -- further-467
    (codes ".RECIPEPREFIX = t\nX = 1\nifdef A\nF\\\n!= -g\\\n\\\nx$(a  b)\nendif\nF = $x \\\r\n =\nF=$x \\\r\n =\nd: ; true\n\ttrue\n\ta\n # n\n\ttrue\\", ChangeLine None (codes "X") (edits.SetOperator Shell), Accepted 1 1 (span 20 21 (codes "!=") ∷ []) (Becomes (codes ".RECIPEPREFIX = t\nX != 1\nifdef A\nF\\\n!= -g\\\n\\\nx$(a  b)\nendif\nF = $x \\\r\n =\nF=$x \\\r\n =\nd: ; true\n\ttrue\n\ta\n # n\n\ttrue\\"))) ∷  -- further-468
    (codes "# F is on\nF\\\n!= a \\\n|\n", SwitchLine CommentOut None (codes "F"), Accepted 1 1 (span 10 10 (codes "#") ∷ []) (Becomes (codes "# F is on\n#F\\\n!= a \\\n|\n"))) ∷  -- further-469
    (codes "c&: a | b\r\nF=a\\\n\tx=1 #\nifdef A\nF= -g\\\n\\\n-g \\\r\n a $  ;# a \\\\\nelse\nexport F\\\n= b b \\\n \\\n \\ |# c\nendif", EachLine (ChangeEach (codes "F") (edits.Substitute (codes "b \\ |") (codes "x=1"))), Accepted 1 1 (span 79 90 (codes "x=1") ∷ []) (Becomes (codes "c&: a | b\r\nF=a\\\n\tx=1 #\nifdef A\nF= -g\\\n\\\n-g \\\r\n a $  ;# a \\\\\nelse\nexport F\\\n= b x=1# c\nendif"))) ∷  -- further-470
    (codes "\tfor f in x; do \\\r\n&:private\tifdef::= .PHONY \nX := -g -g a -O2 \\\n \\\n | # c\n", AddLine (AfterRule None (codes "include")) (NewAssign (codes "X") Conditional (codes "$(u a b")), NotMade 1 (BadArgument field.Value)) ∷  -- further-471
    (codes "c:\r\n\ta\r\nifdef A\r\n\tb\r\nelse\r\n\ta\r\nendif\r\n\r\nF = a\r\nc: a | b\r\nifdef A\r\n\ta\r\nendif\r\n\r\n\tb\r\n #\\\\\r\nF = aaa aaaa # aa\r\n-include b.mk\r\n", EachLine (ChangeEach (codes "F") (edits.SetOperator Shell)), Accepted 2 2 (span 42 43 (codes "!=") ∷ span 91 92 (codes "!=") ∷ []) (Becomes (codes "c:\r\n\ta\r\nifdef A\r\n\tb\r\nelse\r\n\ta\r\nendif\r\n\r\nF != a\r\nc: a | b\r\nifdef A\r\n\ta\r\nendif\r\n\r\n\tb\r\n #\\\\\r\nF != aaa aaaa # aa\r\n-include b.mk\r\n"))) ∷  -- further-472
    (codes "X += a\nX = |\nF=a\nF=-g \\\n \\\n x=1\nc: a\n\ta a\n\nc::\n\ta\nifdef A\n\tb\nX = 1\nendif\n\t\nc: a\n\n", EachLine (SubstRecipes (codes "a") (codes "aa")), Accepted 2 2 (span 38 39 (codes "aa") ∷ span 40 41 (codes "aa") ∷ span 48 49 (codes "aa") ∷ []) (Becomes (codes "X += a\nX = |\nF=a\nF=-g \\\n \\\n x=1\nc: a\n\taa aa\n\nc::\n\taa\nifdef A\n\tb\nX = 1\nendif\n\t\nc: a\n\n"))) ∷  -- further-473
    (codes "a.b != = -O2 \\\r\n| a:b \\\n# a \\\\\nF = $# ", ChangeLine None (codes "a.b") (edits.ReplaceWord (codes "a:b") (codes "$(A -g)")), Accepted 1 1 (span 18 21 (codes "$(A -g)") ∷ []) (Becomes (codes "a.b != = -O2 \\\r\n| $(A -g) \\\n# a \\\\\nF = $# "))) ∷  -- further-474
    (codes "c: x.o\\\n x.o\n# n\noverride= $# $x# c\n", EachLine (SubstValues (codes "$#") []), Accepted 1 1 (span 27 29 [] ∷ []) (Becomes (codes "c: x.o\\\n x.o\n# n\noverride=  $x# c\n"))) ∷  -- further-475
    (codes "#override\texport X := b\nF :=${v a\\\n\\\n\nF != $(A -g) b ;\nX\\\n!= \\ -g \\\n \\\n Ã© \nc: a\n\t\ttrue\n\ta\n\ty\r\n", ChangePrereqs None (codes "c") (ReplacePrereq (codes "a") (codes "${c}")), Accepted 1 1 (span 79 80 (codes "${c}") ∷ []) (Becomes (codes "#override\texport X := b\nF :=${v a\\\n\\\n\nF != $(A -g) b ;\nX\\\n!= \\ -g \\\n \\\n Ã© \nc: ${c}\n\t\ttrue\n\ta\n\ty\r\n"))) ∷  -- further-476
    (codes "#F = a\r\nF = -g\r\nF += \r\nF += -g\r\nc: a | b\r\n# n\r\n\ta\r\nF = a\r\nc: a\r\nifdef A\r\n\ta\r\nendif\r\n", SwitchLine Uncomment None (codes "a b"), NotTried (BadArgument field.Name)) ∷  -- further-477
    (codes "X= $(a\tb) # \\\n d\nd: ;\nendif\nifdef A\na\\b: c\n.RECIPEPREFIX = >\\\n", AddLine (BeforeRule None (codes "d")) (NewRule (codes "d") Double []), NotMade 1 RecipePrefix) ∷  -- further-478
    (codes "c d: $(w a) x.o b&\r\n\tcc -s x\n\tfor f in x; do \\\n\t  cc $$f; \\\n\tdone\n\tfor f in x; do \\\n\t  cc $$f; \\\n\tdone\nc: $(w a) b& ; true\n\tcc -s y; cc -s z\ni: $(w a)\n\tcc -s y; cc -s z\nendif\nF = | a b#\n", AddLine Top (NewRule (codes "d") Single (codes "a b")), Accepted 1 0 (span 0 0 (codes "d: a b\r\n") ∷ []) (Becomes (codes "d: a b\r\nc d: $(w a) x.o b&\r\n\tcc -s x\n\tfor f in x; do \\\n\t  cc $$f; \\\n\tdone\n\tfor f in x; do \\\n\t  cc $$f; \\\n\tdone\nc: $(w a) b& ; true\n\tcc -s y; cc -s z\ni: $(w a)\n\tcc -s y; cc -s z\nendif\nF = | a b#\n"))) ∷  -- further-479
    (codes "d: # c\r\n\tt\n\ta\n\tx \\ y\n", EachLine (SubstRecipe (Some 2) (codes "d") [] []), NotTried (BadArgument field.From)) ∷  -- further-480
    (codes "X:= $(a b) a\n#\\\\\\\n\noverride override+= -g $(a\tb)\n# c\ndefine D\nX = ababa\nendef\n", AddLine (BeforeVar None (codes "X")) (NewRule (codes "c") Single (codes "a b")), Accepted 1 0 (span 0 0 (codes "c: a b\n") ∷ []) (Becomes (codes "c: a b\nX:= $(a b) a\n#\\\\\\\n\noverride override+= -g $(a\tb)\n# c\ndefine D\nX = ababa\nendef\n"))) ∷  -- further-481
    (codes "override override\\\n=; \\ b\ninclude: ; true\n\t\n # n\n#Y=", AddLine Top (NewAssign (codes "F") Append (codes "-g")), Accepted 1 0 (span 0 0 (codes "F += -g\n") ∷ []) (Becomes (codes "F += -g\noverride override\\\n=; \\ b\ninclude: ; true\n\t\n # n\n#Y="))) ∷  -- further-482
    (codes "a: x.o x.o x.o\\\n x.o", ExchangeLines (OfRuleRun None (codes "a")) (block_lines (codes "a: x.o x.o x.o\\")), NotMade 1 (BadArgument field.Block)) ∷  -- further-483
    (codes "ifdef A\nF = ; b  ${c} -g\nelse\nF\\\n= ; a:b a:b -O2 \\\n    ; \nendif\nc d: $(w a) $(w a)\\\n x.o\nF=a\nF += a\nF\\\n= -g -g -g\nF\\\n+=$(a b)\\\na#-g\n \\\n\t|d:: CC!=; ; \n", EachLine (ChangeEach (codes "F") (edits.SetOperator Conditional)), Accepted 6 6 (span 10 11 (codes "?=") ∷ span 33 34 (codes "?=") ∷ span 90 91 (codes "?=") ∷ span 95 97 (codes "?=") ∷ span 103 104 (codes "?=") ∷ span 117 119 (codes "?=") ∷ []) (Becomes (codes "ifdef A\nF ?= ; b  ${c} -g\nelse\nF\\\n?= ; a:b a:b -O2 \\\n    ; \nendif\nc d: $(w a) $(w a)\\\n x.o\nF?=a\nF ?= a\nF\\\n?= -g -g -g\nF\\\n?=$(a b)\\\na#-g\n \\\n\t|d:: CC!=; ; \n"))) ∷  -- further-484
    (codes "X\\\n+=\nF = \\\n    a$\\\\\n\\\na \\\r\n -g |\nF +=-O2 \\\r\n -g\tx=1\n #\\\\\n", ChangeLine (Some 1) (codes "F") (edits.ReplaceWord (codes "a$\\\\") (codes "-O2")), NotTried (BadArgument field.Word)) ∷  -- further-485
    (codes "F\\\n:= -g  -g -O2#\n", ChangeValue Every (codes "F") (edits.SetIf (codes "-g  -g -O2") []), Accepted 1 1 (span 6 16 [] ∷ []) (Becomes (codes "F\\\n:= #\n"))) ∷  -- further-486
    (codes "F+= b\t$# -O2#\nX := b\\\n\\\nb\tb $(s (b) a)\nifdef A\na.b\\\n::= a\\\n -g\\\n\tx=1\nendif\nF\\\n= ;\\\n\\\n$(t \\\n -g) = \ni: b b& | b\nifdef A\nF =a\\  -g\\\n\\\nb\nelse\nF = b b  $(a\tb) $(u\nendif\n", SwitchLine CommentOut None (codes "X"), Accepted 1 1 (span 14 14 (codes "#") ∷ []) (Becomes (codes "F+= b\t$# -O2#\n#X := b\\\n\\\nb\tb $(s (b) a)\nifdef A\na.b\\\n::= a\\\n -g\\\n\tx=1\nendif\nF\\\n= ;\\\n\\\n$(t \\\n -g) = \ni: b b& | b\nifdef A\nF =a\\  -g\\\n\\\nb\nelse\nF = b b  $(a\tb) $(u\nendif\n"))) ∷  -- further-487
    (codes "X = ; \\\r\na:b b  -O2\r\nifdef A\r\noverride F ::= -g\r\nendif\r\ndefine D\r\n\r\nc: a\r\n-include2 foo&:: $$ \t${g(} b #\\\\\\\r\n\r\nifdef B\r\nc::\r\n\ta\r\nifdef A\r\n\tb\r\nelse\r\n\ta\r\nendif\r\n\r\nc:\r\n\ta a\r\nF = a\r\nendif\r\nc: ; true\r\n\tt\r\n\ta\r\n# \\\r\n n\r\n\tsay \"q\"\r\n", EachLine (SubstValues (codes "a:b") []), NotMade 1 Misread) ∷  -- further-488
    (codes "\t# \\\noverride = \noverride=\noverride += -g\n", EachLine (ChangeEach (codes "override") (edits.ReplaceWord (codes "-g") (codes "-O2 -O2"))), Accepted 1 1 (span 39 41 (codes "-O2 -O2") ∷ []) (Becomes (codes "\t# \\\noverride = \noverride=\noverride += -O2 -O2\n"))) ∷  -- further-489
    (codes "\\ECIPEPREFIX = t\r\nF := \\\r\n    -O2 a:b -g \\\r\n -O2 )(s (b) a)\\\r\n#\r\n", ExchangeLines (OfRun None (block_lines (codes "\\"))) (block_lines (codes "override define E\n  b")), NotMade 2 (BadArgument field.Old)) ∷  -- further-490
    (codes "#override\texport X := b\n$(call t,x)\n", ExchangeLines (AtPlace (AfterVar None (codes "a.b"))) (block_lines (codes "define D\nx\nendef")), NotMade 3 NoSuch) ∷  -- further-491
    (codes "c c: # c\r\n\t# n\nelse\nendif\nX\\\n!= a\\\n\t$(t \\\n -g)# \\\n d\n#exportF = 1\na.b != x=1 \\\n \\\n -g\n\n\\\n# x ; y : z = 1\n", ChangeLine None (codes "X") (edits.Prepend (codes "a b")), Accepted 1 1 (span 32 32 (codes "a b ") ∷ []) (Becomes (codes "c c: # c\r\n\t# n\nelse\nendif\nX\\\n!= a b a\\\n\t$(t \\\n -g)# \\\n d\n#exportF = 1\na.b != x=1 \\\n \\\n -g\n\n\\\n# x ; y : z = 1\n"))) ∷  -- further-492
    (codes "ifdef A\nX ::=\tb -O2 |\\\n\t-g #\nelse\nF != ; b \\\n    \\# \nendif\nF !=-g\\\na$\\ \ni: $(w a) | b\n\tcc -s x\n# n\nifdef A\noverride:= -g -O2 \\\n${v a -g \\\r\n #\nelse\noverride a.b\\\n+= b\t-g =# \\\n d\nendif\nc d: $(w a) $(w a) | b\n", EachLine (ChangeEach (codes "F") (edits.SetOperator Immediate)), Accepted 2 2 (span 36 38 (codes ":::=") ∷ span 61 63 (codes ":::=") ∷ []) (Becomes (codes "ifdef A\nX ::=\tb -O2 |\\\n\t-g #\nelse\nF :::= ; b \\\n    \\# \nendif\nF :::=-g\\\na$\\ \ni: $(w a) | b\n\tcc -s x\n# n\nifdef A\noverride:= -g -O2 \\\n${v a -g \\\r\n #\nelse\noverride a.b\\\n+= b\t-g =# \\\n d\nendif\nc d: $(w a) $(w a) | b\n"))) ∷  -- further-493
    (codes "F = a b\nF=| \\\n \\\n a\\\n\\\na:b \\\n \\\n b -g\n#\n#X = 1\n\ttrue\nvpath %.c a\nX = ababa\nd: # c\nc:\n\ta\nifdef A\n\tb\nelse\n\ta\nendif\n", AddLine (AfterVar (Some 2) (codes "F")) (NewRule (codes "c") Single []), NotMade 1 Leans) ∷  -- further-494
    (codes "endif\n\t#F = t\nX := $(s (b) a) a$   $(w \\\n a)\\\n\t# c\nF =${c} \\ b  \\ b \\\n \\\n b\n#F = a\\", ChangeLine None (codes "F") (edits.Prepend (codes "a\\\\ b")), Accepted 1 1 (span 54 54 (codes "a\\\\ b ") ∷ []) (Becomes (codes "endif\n\t#F = t\nX := $(s (b) a) a$   $(w \\\n a)\\\n\t# c\nF =a\\\\ b ${c} \\ b  \\ b \\\n \\\n b\n#F = a\\"))) ∷  -- further-495
    (codes "a.b = -g\na.b=$x\\\n a$\\  |\ni:  | b\n\tcc -s x\n", AddLine Bottom (NewAssign (codes "F") Append (codes "$(s (b) a) =")), Accepted 1 0 (span 42 42 (codes "F += $(s (b) a) =\n") ∷ []) (Becomes (codes "a.b = -g\na.b=$x\\\n a$\\  |\ni:  | b\n\tcc -s x\nF += $(s (b) a) =\n"))) ∷  -- further-496
    (codes "F = a:b #-g\n", EachLine (SubstValues (codes "a:b") []), Accepted 1 1 (span 4 7 [] ∷ []) (Becomes (codes "F =  #-g\n"))) ∷  -- further-497
    (codes "-include b.mk\nendif\n-include b.mk\n", EachLine (SubstValues (codes " ") (codes "\r")), NotTried (BadArgument field.To)) ∷  -- further-498
    (codes "F=-g\r\nF=-g\r\nc:  | b", EachLine (ChangeEach (codes "F") (edits.SetOperator Shell)), Accepted 2 2 (span 1 2 (codes "!=") ∷ span 7 8 (codes "!=") ∷ []) (Becomes (codes "F!=-g\r\nF!=-g\r\nc:  | b"))) ∷  -- further-499
    []

answers_10 : map (λ row. account row.0 row.1) rows_10 ≡ map (λ row. row.2) rows_10
answers_10 = refl

abbrev rows_11 : List (List ℕ × Edit × Account)
rows_11 =
    (codes "F ?=$(s (b) a)\\\r\n\\\r\nb -g \r\nd: a | b\r\n\t>a\r\n\ttrue\r\n\ta \\\r\n\tb\r\ndefine D\r\n\tababa aaa\r\na: b\r\nX\\\r\n= $$ \\\r\n;\\\r\na\t-g -g \r\nfoo:foo \r\n", ChangeValue Every (codes "F") (edits.SetIf (codes "$(s (b) a) b -g") (codes "a")), Accepted 1 1 (span 4 24 (codes "a") ∷ []) (Becomes (codes "F ?=a \r\nd: a | b\r\n\t>a\r\n\ttrue\r\n\ta \\\r\n\tb\r\ndefine D\r\n\tababa aaa\r\na: b\r\nX\\\r\n= $$ \\\r\n;\\\r\na\t-g -g \r\nfoo:foo \r\n"))) ∷  -- further-500
    (codes "F ?= $(w \\\n a) \\\n    $(t \\\n -g) \\\r\n b \\\n    x=1 $\\fdef A\nF = $(t \\\n -g) ; a# \\\n d\nendif\nF\t\\\n=\nF = a b", ChangeLine (Some 2) (codes "F") (edits.Prepend (codes "x=1 ${c}")), Accepted 1 1 (span 61 61 (codes "x=1 ${c} ") ∷ []) (Becomes (codes "F ?= $(w \\\n a) \\\n    $(t \\\n -g) \\\r\n b \\\n    x=1 $\\fdef A\nF = x=1 ${c} $(t \\\n -g) ; a# \\\n d\nendif\nF\t\\\n=\nF = a b"))) ∷  -- further-501
    (codes "# F is on\nF\\\n= -g \\\n-g \\\r\n $(u\nF = a \\\nF=\nF=\n#Y=\nX += b ${c} -g\n", SwitchLine Uncomment (Some 0) (codes ".RECIPEPREFIX"), NotTried Reserved) ∷  -- further-502
    (codes "#\tX := 1\r\noverride override= x=1 $(A -g) \r\nF = |\r\nF = |\r\nF += |\r\na.b= b #\r\nc d:  ; true\r\n\ta\\\r\n\tb\r\n\tcc -s \\\r\n>y\r\n\r\n", EachLine (ChangeEach (codes "a.b") (edits.Prepend (codes "-g"))), Accepted 1 1 (span 70 70 (codes "-g ") ∷ []) (Becomes (codes "#\tX := 1\r\noverride override= x=1 $(A -g) \r\nF = |\r\nF = |\r\nF += |\r\na.b= -g b #\r\nc d:  ; true\r\n\ta\\\r\n\tb\r\n\tcc -s \\\r\n>y\r\n\r\n"))) ∷  -- further-503
    (codes ".RECIPEPREFIX = F\nF\\\n+= x=1 b\nc:\n\ta\nifdef A\n\tb\nelse\n\ta\nendif\n\nF = a\nc: $(w a) b& | b\n", ChangeLine None (codes "F") (edits.SetOperator Simple), Accepted 1 1 (span 21 23 (codes ":=") ∷ []) (Becomes (codes ".RECIPEPREFIX = F\nF\\\n:= x=1 b\nc:\n\ta\nifdef A\n\tb\nelse\n\ta\nendif\n\nF = a\nc: $(w a) b& | b\n"))) ∷  -- further-504
    (codes "override= a -O2 -g\t-g #\ninclude: a\ni: \\\n x.o\n\tcc -s y; cc -s z\n\tfor f in x; do \\\n\t  cc $$f; \\\n\tdone\n\n", EachLine (SubstRecipe None (codes "include") (codes "a") (codes " x")), NotTried Reserved) ∷  -- further-505
    (codes "F ::= \\\r\n ", EachLine (ChangeEach (codes "F") (edits.SetOperator Recursive)), Accepted 1 1 (span 2 5 (codes "=") ∷ []) (Becomes (codes "F = \\\r\n "))) ∷  -- further-506
    (codes "F +=-O2\r\na.b=x==b\\\r\n = -g\r\n", ChangeLine None (codes "a.b") (edits.InsertWord Before (codes "=") (codes "$(new a)")), Accepted 1 1 (span 21 21 (codes "$(new a)\\\r\n ") ∷ []) (Becomes (codes "F +=-O2\r\na.b=x==b\\\r\n $(new a)\\\r\n = -g\r\n"))) ∷  -- further-507
    (codes "# F is on\nc: a\n\tifdef Q\n\ttrue\n\t# n", AddLine (AfterVar None (codes "F")) (NewRule (codes "%.o") Double []), NotMade 1 NoSuch) ∷  -- further-508
    (codes "F ::= a\nX ?= $(A -g)  a -g  $#\nd: a | b\n\t\n\trm -rf x\ndefine D\ndefine E\nX\nendef\nendef\ni: b x.o b& | b\n\tcc -s y; cc -s z\n\ttrue\nc: a\n\t\\\n\n\t\ttrue\n", EachLine (SubstRecipes (codes "-s") []), Accepted 1 1 (span 104 106 [] ∷ span 113 115 [] ∷ []) (Becomes (codes "F ::= a\nX ?= $(A -g)  a -g  $#\nd: a | b\n\t\n\trm -rf x\ndefine D\ndefine E\nX\nendef\nendef\ni: b x.o b& | b\n\tcc  y; cc  z\n\ttrue\nc: a\n\t\\\n\n\t\ttrue\n"))) ∷  -- further-509
    (codes "ifdef A\r\noverride\\\r\n= a:b $$ Ã©\r\nendif\r\n", ChangeLine None (codes "override") (edits.ReplaceWord (codes "a:b") (codes "-O2")), Accepted 1 1 (span 22 25 (codes "-O2") ∷ []) (Becomes (codes "ifdef A\r\noverride\\\r\n= -O2 $$ Ã©\r\nendif\r\n"))) ∷  -- further-510
    (codes "X\\\n?= | \\\n \\\n x=1 #-\n", EachLine (ChangeEach (codes "X") (edits.ReplaceWord (codes "|") (codes "$x"))), Accepted 1 1 (span 6 7 (codes "$x") ∷ []) (Becomes (codes "X\\\n?= $x \\\n \\\n x=1 #-\n"))) ∷  -- further-511
    (codes "F=$(a b)\\\n\t$(s (b) a) Ã© b\ndefine D \\\n e\n\ttrue\nendef\nifdef A\noverride ::=  #\nelse\na.b !=a b $x #-g\nendif\ninclude: # c\nc: ;\n>>a\r", ChangeLine None (codes "F") (edits.ReplaceWord (codes "b") (codes "-g")), Accepted 1 1 (span 25 26 (codes "-g") ∷ []) (Becomes (codes "F=$(a b)\\\n\t$(s (b) a) Ã© -g\ndefine D \\\n e\n\ttrue\nendef\nifdef A\noverride ::=  #\nelse\na.b !=a b $x #-g\nendif\ninclude: # c\nc: ;\n>>a\r"))) ∷  -- further-512
    (codes "F= \\\n \\\n $(t \\\n -g)\nifdef A\noverride\\\n!= a a \\\n \\\n b -g -g \nelse\nF :=-O2 a$\\\nendif\nc:  | b\n\tcc -s x\n", ChangeLine (Some 2) (codes "F") (edits.ReplaceWord (codes "a$ endif") (codes "$ b \\#")), Accepted 1 1 (span 73 82 (codes "$ b \\#") ∷ []) (Becomes (codes "F= \\\n \\\n $(t \\\n -g)\nifdef A\noverride\\\n!= a a \\\n \\\n b -g -g \nelse\nF :=-O2 $ b \\#\nc:  | b\n\tcc -s x\n"))) ∷  -- further-513
    (codes "d: ; true\n\ttrue\n\ttrue \\\r\n\ttrue\n\tx \\ y\nifdef A\nX ?= a\\\\ \nelse\nF\\\n=b -g \nendif\nc: ; true\n\tb\n\ttrue\n\ttrue\n\ta", ChangeLine None (codes "F") (edits.ReplaceWord (codes "b") (codes "a")), Accepted 1 1 (span 65 66 (codes "a") ∷ []) (Becomes (codes "d: ; true\n\ttrue\n\ttrue \\\r\n\ttrue\n\tx \\ y\nifdef A\nX ?= a\\\\ \nelse\nF\\\n=a -g \nendif\nc: ; true\n\tb\n\ttrue\n\ttrue\n\ta"))) ∷  -- further-514
    (codes "#F = a\\\nF =-g  -g  $\\\nc: a | b\n# n\n", ExchangeLines (AtPlace (AfterLastVar (codes "override"))) (block_lines (codes "F = -g\n\tfor f in x; do \\")), NotMade 2 (BadArgument field.Block)) ∷  -- further-515
    (codes "F=b\\\na\\\n\\\n;# \\\n d\na.b =\\ b \\\n \\\n b# \\\n d\n#\tX := 1\n", ChangePrereqs None (codes "include") (ReplacePrereq (codes "$x") (codes "$x")), NotTried Reserved) ∷  -- further-516
    (codes ".RECIPEPREFIX = X\r\nc d: x.o | a d\r\n\ta\\\r\n\tb\r\n\tcc -s x\r\n\tcc -s x", ExchangeLines (AtPlace Top) (block_lines (codes ".RECIPEPREFIX = X")), NotMade 1 Already) ∷  -- further-517
    (codes ".RECIPEPREFIX = F\nF =\\\n\t-O2 -g \\\r\n a \\\n    -g -O2 \ndefine D \\\n e\nendef\n", EachLine (ChangeEach (codes "F") (edits.Prepend (codes "$(s (b) a) b"))), Accepted 1 1 (span 24 24 (codes "$(s (b) a) b ") ∷ []) (Becomes (codes ".RECIPEPREFIX = F\nF =\\\n\t$(s (b) a) b -O2 -g \\\r\n a \\\n    -g -O2 \ndefine D \\\n e\nendef\n"))) ∷  -- further-518
    (codes "d: ;\n>\n>rm -rf x\n>t\nifdef A\noverride F = -g $(a\tb)\nelse\nF?= -O2 =\t$(u b\nendif\n#\t\t Y !=b\n#Y=\noverride F != b x=1 a\\  b \\\n;# a \\\\\noverride define X =\n  b\nendef\n", AddLine (BeforeRule None (codes "d")) (NewRule (codes "x.o") Single (codes "a")), Accepted 1 0 (span 0 0 (codes "x.o: a\n") ∷ []) (Becomes (codes "x.o: a\nd: ;\n>\n>rm -rf x\n>t\nifdef A\noverride F = -g $(a\tb)\nelse\nF?= -O2 =\t$(u b\nendif\n#\t\t Y !=b\n#Y=\noverride F != b x=1 a\\  b \\\n;# a \\\\\noverride define X =\n  b\nendef\n"))) ∷  -- further-519
    (codes "F = ${c}\r\nifdef B\r\nc:\r\nifdef A\r\n\ta\r\nendif\r\n\r\n\tb\r\n\r\nc: a\r\nifdef A\r\n\ta\r\nendif\r\n\r\n\tb\r\nendif\r\n", ChangeLine None (codes "F") (edits.SetOperator Simple), Accepted 1 1 (span 2 3 (codes ":=") ∷ []) (Becomes (codes "F := ${c}\r\nifdef B\r\nc:\r\nifdef A\r\n\ta\r\nendif\r\n\r\n\tb\r\n\r\nc: a\r\nifdef A\r\n\ta\r\nendif\r\n\r\n\tb\r\nendif\r\n"))) ∷  -- further-520
    (codes "a.b =  \n\nX = 1\nX = 1\ni: x.o\nifdef A\nifdef A", EachLine (ChangeEach (codes "F") (edits.SetOperator PosixSimple)), NotTried NoSuch) ∷  -- further-521
    (codes "i: b b&\\\n x.o\n#override\texport X := b\nifdef A\nF:= b  -O2 |\nelse\na.b ::= ${c}#\nendif\nc: a | b\n\ta\nifdef A\n\tb\nelse\n\ta\nendif\n\n \nX!=b\n", EachLine (ChangeEach (codes "F") (edits.Substitute (codes "b ") (codes "aa"))), Accepted 1 1 (span 50 52 (codes "aa") ∷ []) (Becomes (codes "i: b b&\\\n x.o\n#override\texport X := b\nifdef A\nF:= aa -O2 |\nelse\na.b ::= ${c}#\nendif\nc: a | b\n\ta\nifdef A\n\tb\nelse\n\ta\nendif\n\n \nX!=b\n"))) ∷  -- further-522
    (codes ".RECIPEPREFIX = >\nc: \\\n x.o\nc: ;\n\ta # b\n\ta\nc: x.o $(w a) $(w a) | a d\nifdef A\n\ttrue\n\tfor f in x; do \\\n\t  cc $$f; \\\n\tdone\nF ?= -g  $  b\\\na:b a$\\# c\n", EachLine (ChangeEach (codes "F") (edits.ReplaceWord (codes "a$\\") (codes "b"))), NotTried (BadArgument field.Word)) ∷  -- further-523
    (codes "X {= 1\nF = a \\\ninclude: # c\n # n\n#include = x\n# n\n \n\t  cc $f; \\\ninclude a.mk\n#X = 1\nF\\\n= = -O2\n", EachLine (ChangeEach (codes "F") (edits.ReplaceWord (codes "=") (codes "b ="))), Accepted 1 1 (span 89 90 (codes "b =") ∷ []) (Becomes (codes "X {= 1\nF = a \\\ninclude: # c\n # n\n#include = x\n# n\n \n\t  cc $f; \\\ninclude a.mk\n#X = 1\nF\\\n= b = -O2\n"))) ∷  -- further-524
    (codes "X :=b \\\r\n \\\n a# a \\\\\n", ChangeValue Every (codes "X") (edits.SetIf (codes "b a") (codes "$\\x")), Accepted 1 1 (span 4 14 (codes "$\\x") ∷ []) (Becomes (codes "X :=$\\x# a \\\\\n"))) ∷  -- further-525
    (codes "i: b& x.o x.o ; true\r\n\tcc -s x\nc::\n\ta a\n\t  cc $$f; \\\n\t#F = t\nc:  | a d\n\tcc -s x\nifdef A\n", EachLine (SubstRecipes (codes "cc") (codes " \\")), Accepted 3 3 (span 23 25 (codes " \\") ∷ span 43 45 (codes " \\") ∷ span 72 74 (codes " \\") ∷ []) (Becomes (codes "i: b& x.o x.o ; true\r\n\t \\ -s x\nc::\n\ta a\n\t   \\ $$f; \\\n\t#F = t\nc:  | a d\n\t \\ -s x\nifdef A\n"))) ∷  -- further-526
    (codes ".RECIPEPREFIX = >\nt :\tA =\\\n\t \t\n#exportF = 1\\", EachLine (ChangeEach (codes "a.b") (edits.Substitute (codes "cc") (codes "/usr"))), NotTried NoSuch) ∷  -- further-527
    (codes "ifdef A\nF += a b\t-g ${c}\nelse\nF =| ; \\\r\n ${c} \\\n    \nendif\n#F\nc: a", ExchangeLines (AtPlace (AfterVar (Some 1) (codes "F"))) (block_lines (codes "F = a \\\n  b")), Accepted 1 0 (span 25 25 (codes "F = a \\\n  b\n") ∷ []) (Becomes (codes "ifdef A\nF += a b\t-g ${c}\nF = a \\\n  b\nelse\nF =| ; \\\r\n ${c} \\\n    \nendif\n#F\nc: a"))) ∷  -- further-528
    (codes "c:\t$(s\\) x.o \n# x ; y : z = 1\n", ChangePrereqs None (codes "c") (ReplacePrereq (codes "x.o") (codes "%.o")), Accepted 1 1 (span 9 12 (codes "%.o") ∷ []) (Becomes (codes "c:\t$(s\\) %.o \n# x ; y : z = 1\n"))) ∷  -- further-529
    (codes "i: x.o\r\n\tfor f in x; do \\\r\n\t  cc $$f; \\\r\n\tdone\r\n# n\r\ndefine D\r\nF = a \\\r\nendef\r\nc: a b& x.o | a d\r\nendif\r\nc d:  ; true\r\n\ttrue\r\n\ta\\\r\n\tb\r\n", EachLine (SubstRecipes (codes "e") []), Accepted 1 1 (span 45 46 [] ∷ []) (Becomes (codes "i: x.o\r\n\tfor f in x; do \\\r\n\t  cc $$f; \\\r\n\tdon\r\n# n\r\ndefine D\r\nF = a \\\r\nendef\r\nc: a b& x.o | a d\r\nendif\r\nc d:  ; true\r\n\ttrue\r\n\ta\\\r\n\tb\r\n"))) ∷  -- further-530
    (codes "c: a a b\nifdef A\nifdef A\nexport a.b= $(a\tb) \\\n    -O2\nendif\n", ChangeLine None (codes "a.b") (edits.Prepend (codes "$(s (b) a)")), Accepted 1 1 (span 37 37 (codes "$(s (b) a) ") ∷ []) (Becomes (codes "c: a a b\nifdef A\nifdef A\nexport a.b= $(s (b) a) $(a\tb) \\\n    -O2\nendif\n"))) ∷  -- further-531
    (codes "a: x.o | a d\n\tfor f in x; do \\\n\t  cc $$f; \\\n\tdone\n", ChangePrereqs None (codes "a") (ReplacePrereq (codes "a") (codes ".PHONY")), Accepted 1 1 (span 9 10 (codes ".PHONY") ∷ []) (Becomes (codes "a: x.o | .PHONY d\n\tfor f in x; do \\\n\t  cc $$f; \\\n\tdone\n"))) ∷  -- further-532
    (codes "a: x.o ; true\n\ni: a ; true\n\nF = -g\nF += = -g\nF += -g\na: b& b& | a d\nifdef A\n", ChangeLine (Some 1) (codes "F") (edits.ReplaceWord (codes "-g") (codes "a\\ b")), Accepted 1 1 (span 32 34 (codes "a\\ b") ∷ []) (Becomes (codes "a: x.o ; true\n\ni: a ; true\n\nF = a\\ b\nF += = -g\nF += -g\na: b& b& | a d\nifdef A\n"))) ∷  -- further-533
    (codes "a: x.o a\r\nifdef A\noverride define X =\nendef\ni: a $(w a) | b\n\tcc -s y; cc -s z\nifdef A\n", ChangePrereqs None (codes "a") (ReplacePrereq (codes "a") (codes "%.o")), Accepted 1 1 (span 7 8 (codes "%.o") ∷ []) (Becomes (codes "a: x.o %.o\r\nifdef A\noverride define X =\nendef\ni: a $(w a) | b\n\tcc -s y; cc -s z\nifdef A\n"))) ∷  -- further-534
    (codes "\tdone\nF=a\nF += a\n$(q:;=|)\tx.o  : \\\r\n CC ?=  # x ; y : z = 1\\\n", EachLine (ChangeEach (codes "F") (edits.ReplaceWord (codes "a") (codes "a$ b $(s (b) a)"))), Accepted 2 2 (span 8 9 (codes "a$ b $(s (b) a)") ∷ span 15 16 (codes "a$ b $(s (b) a)") ∷ []) (Becomes (codes "\tdone\nF=a$ b $(s (b) a)\nF += a$ b $(s (b) a)\n$(q:;=|)\tx.o  : \\\r\n CC ?=  # x ; y : z = 1\\\n"))) ∷  -- further-535
    (codes ".RECIPEPREFIX = X\ni: b b ; true\n\ttrue\n\ta\\\r\n\tb\nifdef A\nF?= b $(a\tb) \nelse\nF\\\n= = a\\\nb -g =# c\nendif\n# F is on\nd: # c\nF=a b\nF = -g\\\n\t= ;\\\n-g\nF=-g\\\n\t= ;\\\n-g\nF = $\\\t\\\\ \\\na#", EachLine (ChangeEach (codes "F") (edits.Substitute (codes "a") (codes "x=1"))), Accepted 3 3 (span 62 63 (codes "x=1") ∷ span 80 81 (codes "x=1") ∷ span 118 119 (codes "x=1") ∷ []) (Becomes (codes ".RECIPEPREFIX = X\ni: b b ; true\n\ttrue\n\ta\\\r\n\tb\nifdef A\nF?= b $(x=1\tb) \nelse\nF\\\n= = x=1\\\nb -g =# c\nendif\n# F is on\nd: # c\nF=x=1 b\nF = -g\\\n\t= ;\\\n-g\nF=-g\\\n\t= ;\\\n-g\nF = $\\\t\\\\ \\\na#"))) ∷  -- further-536
    (codes "c: ; true\nd: ; true\n\trm -f x\nelse\n\ta\\\n>b\n\trm -rf x\n#c \\\n d\n#c \\\n d\n", AddLine (AfterLastVar []) (NewAssign (codes "X") Conditional (codes "-g")), NotMade 1 (BadArgument field.Place)) ∷  -- further-537
    (codes "%.o: :  .PHONY\\\n\\\n:$; c\\\n| %.o \\\n \\\n \nF := #\nt ${g(}\t:: X$  :=\\\n\t\\\r\n${g(} .PHONY \\\n \\\n c \noverride = a\\\\ \n$(call t,x)\nF = a \\\n", ChangeLine None (codes "override") (edits.Prepend (codes "${c} a b")), Accepted 1 1 (span 101 101 (codes "${c} a b ") ∷ []) (Becomes (codes "%.o: :  .PHONY\\\n\\\n:$; c\\\n| %.o \\\n \\\n \nF := #\nt ${g(}\t:: X$  :=\\\n\t\\\r\n${g(} .PHONY \\\n \\\n c \noverride = ${c} a b a\\\\ \n$(call t,x)\nF = a \\\n"))) ∷  -- further-538
    (codes "\n>\n#Y=\nc::\nifdef A\n\ta\nendif\n\n\tb\nc:\nF = a\n \ninclude a.mk\n", AddLine (BeforeVar None (codes "F")) (NewAssign (codes "X") Immediate (codes "b")), Accepted 1 0 (span 35 35 (codes "X :::= b\n") ∷ []) (Becomes (codes "\n>\n#Y=\nc::\nifdef A\n\ta\nendif\n\n\tb\nc:\nX :::= b\nF = a\n \ninclude a.mk\n"))) ∷  -- further-539
    (codes ".RECIPEPREFIX = X\nc:  | b\n\tcc -s y; cc -s z\n\tcc -s y; cc -s z\n# n\n#X: = 1\nF += $\\ \\\\\\\\# a \\\\\n", ChangeLine None (codes "F") (edits.Substitute (codes "\0") (codes " x")), NotTried (BadArgument field.From)) ∷  -- further-540
    (codes "# x ; y : z = 1\r\noverride X\\\r\n+= \\\\\\\r\n\\\r\n| b\r\nifdef A\r\nexport X\\\r\n=   #-g\r\nelse\r\na.b\\\r\n:= b -g b\\\r\n\t# a \\\\\r\nendif\r\nifdef A\r\nX!= b \\\r\n -O2 # c\r\nelse\r\nF =  \r\nendif\r\ni: x.o $(w a)\r\nendif\r\n\tcc -s x\r\nendif\r\n", AddLine (AfterVar None []) (NewAssign (codes "a.b") Append (codes "a")), NotMade 1 (BadArgument field.Place)) ∷  -- further-541
    (codes "F\\\r\n=b\r\nifdef A\r\nF ::= | \r\nelse\r\nX\\\r\n::=$(u \\\r\n \\ b\r\nendif", EachLine (ChangeEach (codes "F") (edits.ReplaceWord (codes "|") (codes "$(s (b) a)"))), Accepted 1 1 (span 23 24 (codes "$(s (b) a)") ∷ []) (Becomes (codes "F\\\r\n=b\r\nifdef A\r\nF ::= $(s (b) a) \r\nelse\r\nX\\\r\n::=$(u \\\r\n \\ b\r\nendif"))) ∷  -- further-542
    (codes "-include b.mk\nF = aaa aaaa # aa\n\t  cc $$f; \\\n", ChangeLine None (codes "F") (edits.SetOperator Shell), Accepted 1 1 (span 16 17 (codes "!=") ∷ []) (Becomes (codes "-include b.mk\nF != aaa aaaa # aa\n\t  cc $$f; \\\n"))) ∷  -- further-543
    (codes "d: # c\n\ta\\\n>b\n\tt\n\tcc -s x\r", AddLine (BeforeRule None (codes "d")) (NewRule (codes "c") Double []), Accepted 1 0 (span 0 0 (codes "c::\n") ∷ []) (Becomes (codes "c::\nd: # c\n\ta\\\n>b\n\tt\n\tcc -s x\r"))) ∷  -- further-544
    (codes "in\t\\\nude: \n> a\n>\n\\\ntrue\nX+=\\\n \n", EachLine (ChangeEach (codes "X") (edits.Prepend (codes "x$(a  b)"))), Accepted 1 1 (span 30 30 (codes "x$(a  b)") ∷ []) (Becomes (codes "in\t\\\nude: \n> a\n>\n\\\ntrue\nX+=\\\n x$(a  b)\n"))) ∷  -- further-545
    (codes "F != -g\\\n$$\\\n-g\t;# c\n#override = 1\nF := $\\\n\\\n-O2", AddLine (BeforeRule None (codes "c")) (NewRule (codes "c") Double (codes "a")), NotMade 1 NoSuch) ∷  -- further-546
    (codes "  b\noverride F ?=\t\na\\b: c\nX = 1\nelse\n", ChangeValue Every (codes "F") (edits.SetIf [] (codes "x=1 -O2")), Accepted 1 1 (span 18 18 (codes "x=1 -O2") ∷ []) (Becomes (codes "  b\noverride F ?=\tx=1 -O2\na\\b: c\nX = 1\nelse\n"))) ∷  -- further-547
    (codes "vpath %.c a\nifdef A\nF ?=b =\\\n-O2 -g\nelse\nF = -O2 a\nendif\nX = b  a a\\\n-O2 $(s (b) a)\n", ChangeLine (Some 2) (codes "F") (edits.Substitute (codes "a") (codes "\r")), NotTried (BadArgument field.To)) ∷  -- further-548
    (codes "c d:  | b\n# n\nF =$(a b)\nc: a\n\ta\nifdef A\n\tb\nelse\n\ta\nendif\n\nc: a\n# n\n\ta\nifdef A\nF\\\n= -g\\\n\\\n-g -O2\nendif\n", ChangeValue Every (codes "F") (edits.SetIf (codes "$(a b)") []), Accepted 1 1 (span 17 23 [] ∷ []) (Becomes (codes "c d:  | b\n# n\nF =\nc: a\n\ta\nifdef A\n\tb\nelse\n\ta\nendif\n\nc: a\n# n\n\ta\nifdef A\nF\\\n= -g\\\n\\\n-g -O2\nendif\n"))) ∷  -- further-549
    []

answers_11 : map (λ row. account row.0 row.1) rows_11 ≡ map (λ row. row.2) rows_11
answers_11 = refl

abbrev rows_12 : List (List ℕ × Edit × Account)
rows_12 =
    (codes "#Y=\nF += a\nF += a\n# \\\nc: a | b\n\trm -rf x\n# \\\n n", ExchangeLines (AtPlace (AfterVar (Some 2) (codes "F"))) (block_lines (codes "endef\ndefine D")), NotMade 2 Misread) ∷  -- further-550
    (codes "c: $(w a)\n\ta\\\r\n\tb\n\tfor f in x; do \\\n# n\nX = -g\nX += -g\n# \r\nc: a\nifdef A\n\ta\nendif\n\nc: a | b\n# n\n\ta\nF = a\na: b ; true\n\tcc -s y; cc -s z\nendif\nendif\n", EachLine (ChangeEach (codes "X") (edits.ReplaceWord (codes "$ b") (codes "$(w a) -g"))), NotTried Absent) ∷  -- further-551
    (codes "ifdef A\nX:=a$\\ \\\n \\\n b \\\n \\\n \\ b a:b  $(a b)\\\n\\\n\nendif", EachLine (ChangeEach (codes "F") (edits.Prepend (codes "$(A -g)"))), NotTried NoSuch) ∷  -- further-552
    (codes "else\n# n\nX = 1\nF += -g\nF = -g\nF += -g\nifdef B\nc::\nifdef A\n\ta\nendif\n\n\tb\nc: a\nifdef A\n\ta\nendif\nF = a\nelse\n\tx\nendif\nc d: $(w a) $(w a) b& ; true\n", EachLine (ChangeEach (codes "F") (edits.SetOperator Immediate)), Accepted 4 4 (span 17 19 (codes ":::=") ∷ span 25 26 (codes ":::=") ∷ span 32 34 (codes ":::=") ∷ span 95 96 (codes ":::=") ∷ []) (Becomes (codes "else\n# n\nX = 1\nF :::= -g\nF :::= -g\nF :::= -g\nifdef B\nc::\nifdef A\n\ta\nendif\n\n\tb\nc: a\nifdef A\n\ta\nendif\nF :::= a\nelse\n\tx\nendif\nc d: $(w a) $(w a) b& ; true\n"))) ∷  -- further-553
    (codes "F\\\n:= a$\\\n\n", ChangeLine None (codes ".RECIPEPREFIX") (edits.SetOperator PosixSimple), NotTried Reserved) ∷  -- further-554
    (codes "d: # c\nifdef A\n\t a\nc d: \n# t = 1?:: # c\n\tsay \"q\"\n\ta # b\nc&: ; true\n\n\ttrue\nifdef A\nX\\\n::= \nel}se\na.b+= \nendif", EachLine (ChangeEach (codes "a.b") (edits.SetOperator Conditional)), Accepted 1 1 (span 99 101 (codes "?=") ∷ []) (Becomes (codes "d: # c\nifdef A\n\t a\nc d: \n# t = 1?:: # c\n\tsay \"q\"\n\ta # b\nc&: ; true\n\n\ttrue\nifdef A\nX\\\n::= \nel}se\na.b?= \nendif"))) ∷  -- further-555
    (codes "F :=\ninclude:: a\nF := a \\\n \\\n -g\n", EachLine (ChangeEach (codes "F") (edits.Prepend (codes "$ b"))), Accepted 2 2 (span 4 4 (codes "$ b") ∷ span 22 22 (codes "$ b ") ∷ []) (Becomes (codes "F :=$ b\ninclude:: a\nF := $ b a \\\n \\\n -g\n"))) ∷  -- further-556
    (codes "\t \nc: ;\n# \\\n n\n>rm -rf x\n>rm -rf x\nd: ; true\n>t\nexport a.b\\\n:= $(a\tb) a\\  ; x$(a  b)  -O2 \n>a\\\n b\n>rm -f x\n", EachLine (ChangeEach (codes "a.b") (edits.SetOperator Recursive)), Accepted 1 1 (span 60 62 (codes "=") ∷ []) (Becomes (codes "\t \nc: ;\n# \\\n n\n>rm -rf x\n>rm -rf x\nd: ; true\n>t\nexport a.b\\\n= $(a\tb) a\\  ; x$(a  b)  -O2 \n>a\\\n b\n>rm -f x\n"))) ∷  -- further-557
    (codes "F= $(a\tb) a \nc&: # c\n\tb\n\ttrue\n\tt\nifdef A\nX = ; b \\\n    a$ \nelse\nexport X=  \nendif\noverride define X =\n\tfor f in x; do \\\nendef\n", ChangeLine None (codes "F") (edits.SetOperator Conditional), Accepted 1 1 (span 1 2 (codes "?=") ∷ []) (Becomes (codes "F?= $(a\tb) a \nc&: # c\n\tb\n\ttrue\n\tt\nifdef A\nX = ; b \\\n    a$ \nelse\nexport X=  \nendif\noverride define X =\n\tfor f in x; do \\\nendef\n"))) ∷  -- further-558
    (codes "c: \r\n\ttrue\r\n\tcc -s \\\r\n>y\r\ndefine D \\\r\n e\r\nendef", AddLine (AfterLastVar (codes ".RECIPEPREFIX")) (NewAssign (codes "F") Shell []), NotMade 1 Reserved) ∷  -- further-559
    (codes "ifdef A\nF = $(a\tb)#-g\nelse\noverride := a\\$ a$ \nendif\nc: \nF\\\n:= b \\\n \\\n -g -O2 # \\\n d\nX =\\\n-g a # a \\\\", AddLine (BeforeVar (Some 2) (codes "F")) (NewAssign (codes "a.b") Recursive (codes "${c}")), Accepted 1 0 (span 57 57 (codes "a.b = ${c}\n") ∷ []) (Becomes (codes "ifdef A\nF = $(a\tb)#-g\nelse\noverride := a\\$ a$ \nendif\nc: \na.b = ${c}\nF\\\n:= b \\\n \\\n -g -O2 # \\\n d\nX =\\\n-g a # a \\\\"))) ∷  -- further-560
    (codes "export F!= a\\ \t$# a \\\\\nF := $\\ ", ChangeLine (Some 1) (codes "F") (edits.SetOperator Immediate), Accepted 1 1 (span 8 10 (codes ":::=") ∷ []) (Becomes (codes "export F:::= a\\ \t$# a \\\\\nF := $\\ "))) ∷  -- further-561
    (codes "F = aaa aaaa # aa\nc: a\nifdef A\nX +=  \nelse\nF ?=\\\n\\\nb  | b \nendif\ni: b& b b | b\nifdef A\n# export F = a\nifdef A\nX = $(a b) \\\\ \\\nb\nendif\nvpath %.c a\nF = -g\n ", ChangeValue Every (codes ".RECIPEPREFIX") (edits.SetIf (codes "${c}") (codes "-O3 -g")), NotTried Reserved) ∷  -- further-562
    (codes "F += a\na: b\n\ttrue\na: x.o a $(w a) | b\n\tcc -s x\n\ttrue\n\ta\\\r\n\tb\noverride = \\\\\\\\\tb \n", ChangePrereqs (Some 2) (codes "a") (ReplacePrereq (codes "x.o") (codes "$(p #)")), Accepted 1 1 (span 21 24 (codes "$(p #)") ∷ []) (Becomes (codes "F += a\na: b\n\ttrue\na: $(p #) a $(w a) | b\n\tcc -s x\n\ttrue\n\ta\\\r\n\tb\noverride = \\\\\\\\\tb \n"))) ∷  -- further-563
    (codes "override X = -O2\n# n\n\nc: a | b\n\ta\nifdef A\n\tb\nX = 1\nendif\n\nc:  | a d\n\tfor f in x; do \\\n\t  cc $$f; \\\n\tdone\n\tcc -s y; cc -s z\n\ta\\\r\n\tb\n\tfor f in x; do \\", EachLine (ChangeEach (codes "X") (edits.ReplaceWord (codes "1") (codes "x=1"))), Accepted 1 1 (span 49 50 (codes "x=1") ∷ []) (Becomes (codes "override X = -O2\n# n\n\nc: a | b\n\ta\nifdef A\n\tb\nX = x=1\nendif\n\nc:  | a d\n\tfor f in x; do \\\n\t  cc $$f; \\\n\tdone\n\tcc -s y; cc -s z\n\ta\\\r\n\tb\n\tfor f in x; do \\"))) ∷  -- further-564
    (codes "ifdef A\nF\\\n::= \nelse\nF\\\n= a:b a\\\n\t${c} \\\r\n -g \\\r\n -g\\\n \nendif\ndefine D \\\n e\n\tcc -s x\nendef\n${c}:c \nc d: a b | b\n\tfor f in x; do \\\n\t  cc $$f; \\\n\tdone\n\tcc -s \\\n>y\nF\\\n?=\\\n  \nexport override ?=b -O2", ChangeValue Every (codes "F") (edits.SetIf (codes "a:b a ${c} -g -g") (codes "-O2")), Accepted 1 1 (span 26 52 (codes "-O2") ∷ []) (Becomes (codes "ifdef A\nF\\\n::= \nelse\nF\\\n= -O2\\\n \nendif\ndefine D \\\n e\n\tcc -s x\nendef\n${c}:c \nc d: a b | b\n\tfor f in x; do \\\n\t  cc $$f; \\\n\tdone\n\tcc -s \\\n>y\nF\\\n?=\\\n  \nexport override ?=b -O2"))) ∷  -- further-565
    (codes "a: \n\n\tcc -s y; cc -s z\nc: a\n\ta\nifdef A\n\tb\nX = 1\nendif\nc: a | b\nifdef A\n\ta\nendif\nF = a\ni: b b& | b\nendif\n\tfor f in x; do \\\n\t  cc $$f; \\\n\tdone\n\n", ChangeLine None (codes "F") (edits.SetOperator Append), Accepted 1 1 (span 82 83 (codes "+=") ∷ []) (Becomes (codes "a: \n\n\tcc -s y; cc -s z\nc: a\n\ta\nifdef A\n\tb\nX = 1\nendif\nc: a | b\nifdef A\n\ta\nendif\nF += a\ni: b b& | b\nendif\n\tfor f in x; do \\\n\t  cc $$f; \\\n\tdone\n\n"))) ∷  -- further-566
    (codes ".RECIPEPREFIX = $x\nc: a | b\n\t>a\n\ttrue\n\n\t\ttrue", ExchangeLines (AfterRun None (block_lines (codes ".RECIPEPREFIX = $x\nc: a | b"))) (block_lines (codes "endif\nifdef B")), NotMade 2 RecipePrefix) ∷  -- further-567
    (codes "#>X = 1\nF::=b\nF += a\nF=-g\nc: a | b\n># n\n>true\n>true\n#F = a\\\ni: b b x.o", EachLine (ChangeEach (codes "F") (edits.Substitute (codes "-g") (codes "$"))), Accepted 1 1 (span 23 25 (codes "$") ∷ []) (Becomes (codes "#>X = 1\nF::=b\nF += a\nF=$\nc: a | b\n># n\n>true\n>true\n#F = a\\\ni: b b x.o"))) ∷  -- further-568
    (codes "ifdef A\nF\\\n=x=1 =#\nelse\nF\\\n::= b \\\n-g\tb |\nendif\n# n\nendif\n\tababa aaa\nF= $# ; \\\na \nx.o:\nF = = | # a \\\\\n>a\n>x \\ y\nifeq (a,b)\n$(call t,x)\na\\b: c\nF = aaa aaaa # aa\noverride override += x=1 b b", ChangeValue Every (codes "F") (edits.SetIf (codes "b -g\tb |") (codes "a\\\\")), NotTried (BadArgument field.Value)) ∷  -- further-569
    (codes "\t\\\r\na :$(a b) # \r\nc d: b | b\n# n\n", ChangePrereqs None (codes "d") (ReplacePrereq (codes "b") (codes "$(f {)")), Accepted 1 1 (span 23 24 (codes "$(f {)") ∷ span 27 28 (codes "$(f {)") ∷ []) (Becomes (codes "\t\\\r\na :$(a b) # \r\nc d: $(f {) | $(f {)\n# n\n"))) ∷  -- further-570
    (codes "c: a\n\t# n\n\tx \\ y\n\t# n\na:  | b\n\tcc -s x\n\tcc -s y; cc -s z\nendif\nifdef A\nX = $(a\tb) -g -g ${c} \nelse\nX\\\n?= a$  ; -g\nendif\n", ExchangeLines (AtPlace (AfterRule None (codes "c"))) (block_lines (codes "define .RECIPEPREFIX\nx\\\nx\\")), NotMade 2 (BadArgument field.Block)) ∷  -- further-571
    (codes "d: a\nifeq (a,b)\n\ttrue\nc: # c\n\ninclude a.mk\nendif\n", ChangePrereqs None (codes "a b") (ReplacePrereq (codes "a") (codes "b")), NotTried (BadArgument field.Target)) ∷  -- further-572
    (codes "F=a -g ${c} -g\nF = a -g ${c\r\n -g\noverride F ::=$(A -g) a:b# a \\\\\n\\\n# \\\nd %.o: a\n\tifdef Q\n#exportF = 1\n", AddLine (AfterVar (Some 1) (codes "F")) (NewRule (codes "c") Double (codes "a b")), Accepted 1 0 (span 15 15 (codes "c:: a b\n") ∷ []) (Becomes (codes "F=a -g ${c} -g\nc:: a b\nF = a -g ${c\r\n -g\noverride F ::=$(A -g) a:b# a \\\\\n\\\n# \\\nd %.o: a\n\tifdef Q\n#exportF = 1\n"))) ∷  -- further-573
    (codes "F::= a a:b a\\$#", EachLine (ChangeEach (codes "F") (edits.Substitute (codes "\\$#") (codes "ab"))), Accepted 1 1 (span 12 15 (codes "ab") ∷ []) (Becomes (codes "F::= a a:b aab"))) ∷  -- further-574
    (codes "a: b $(w a) | b\r\n\tfor f in x; do \\\r\n\t  cc $$f; \\\r\n\tdone\r\n\ttrue\r\nF = aaa aaaa # aa\r\nc d: b& a a\\\r\n x.o\r\nifdef A\r\nF += \r\nF = \r\nF = \r\n\\\r\n#c \\\r\n d\r\na.b = a\\$\r\na.b += a\\$\r\n", EachLine (ChangeEach (codes "F") (edits.SetOperator Shell)), Accepted 4 4 (span 66 67 (codes "!=") ∷ span 114 116 (codes "!=") ∷ span 121 122 (codes "!=") ∷ span 127 128 (codes "!=") ∷ []) (Becomes (codes "a: b $(w a) | b\r\n\tfor f in x; do \\\r\n\t  cc $$f; \\\r\n\tdone\r\n\ttrue\r\nF != aaa aaaa # aa\r\nc d: b& a a\\\r\n x.o\r\nifdef A\r\nF != \r\nF != \r\nF != \r\n\\\r\n#c \\\r\n d\r\na.b = a\\$\r\na.b += a\\$\r\n"))) ∷  -- further-575
    (codes "\\\n# \r\nd: ; true\n\ttrue\n \n\ta\n\t\nifdef A\na.b ?= $\\ |#-g\nelse\noverride F= -g \\\r\n b \\\n \\\n $#\nendif\n.RECIPEPREFIX ?= >\ndefine D\nF = aaa aaaa # aa\n\tfor f in x; do \\\ndefine E\nX\nendef\nendef\nX\\\n?=b =\\\n|\\\n\\\na:b\t-g# c\n", ExchangeLines (BeforeRun (Some 0) (block_lines (codes "F = aaa aaaa # aa\n\tfor f in x; do \\\ndefine E\nX"))) (block_lines (codes "include a.mk")), NotMade 1 RecipePrefix) ∷  -- further-576
    (codes "X = 1\n# n\nc:\n\ta a\nF = a\nc: a | b\n\ta a\na.b += -g\na.b += -g\nX +=-g \\\n \\\n a\\\n\\\nx$(a  b)\tx$(a  b) \\\n \\\n -O2 \\\n    # c\nc: a\n \n\ttrue\n\ttrue\n\tb\n", EachLine (ChangeEach (codes "a.b") (edits.Substitute (codes "-g") (codes "yy"))), Accepted 2 2 (span 45 47 (codes "yy") ∷ span 55 57 (codes "yy") ∷ []) (Becomes (codes "X = 1\n# n\nc:\n\ta a\nF = a\nc: a | b\n\ta a\na.b += yy\na.b += yy\nX +=-g \\\n \\\n a\\\n\\\nx$(a  b)\tx$(a  b) \\\n \\\n -O2 \\\n    # c\nc: a\n \n\ttrue\n\ttrue\n\tb\n"))) ∷  -- further-577
    (codes "#X ?= $(x) # n\n# t = 1\n", EachLine (ChangeEach (codes "a.b") (edits.ReplaceWord (codes "|") (codes "\\# \\\\a"))), NotTried NoSuch) ∷  -- further-578
    (codes "c:\n# n\n\ta\nF = a\nc: a | b\n\ta\nifdef A\n\tb\nelse\n\ta\nendif\n\n\n-include2: :\\\n\\\n \noverride= = \\\n-g  a \n", ExchangeLines (AtPlace (AfterVar None (codes "override"))) (block_lines (codes "\n")), Accepted 2 0 (span 94 94 (codes "\n\n") ∷ []) (Becomes (codes "c:\n# n\n\ta\nF = a\nc: a | b\n\ta\nifdef A\n\tb\nelse\n\ta\nendif\n\n\n-include2: :\\\n\\\n \noverride= = \\\n-g  a \n\n\n"))) ∷  -- further-579
    (codes "F = \\\\\\\\ \\\\\\\\\\\r\n$(s (b) a) \\\r\n \\\r\n x$(a  b) $(w \\\r\n a)\r\ni: b b& ; true\r\nendif\r\n\tcc -s \\\r\n>y\r\n\tcc -s y; cc -s z\r\n# c\r\n", ChangePrereqs None (codes "i") (ReplacePrereq (codes "b") (codes "$(s\\)")), Accepted 1 1 (span 59 60 (codes "$(s\\)") ∷ []) (Becomes (codes "F = \\\\\\\\ \\\\\\\\\\\r\n$(s (b) a) \\\r\n \\\r\n x$(a  b) $(w \\\r\n a)\r\ni: $(s\\) b& ; true\r\nendif\r\n\tcc -s \\\r\n>y\r\n\tcc -s y; cc -s z\r\n# c\r\n"))) ∷  -- further-580
    (codes "#include = x\nifdef A\na.b = -g a\nendif\r", AddLine Bottom (NewAssign (codes "F") Immediate []), NotMade 1 OpenLine) ∷  -- further-581
    (codes "d:\nX ::= =\nX = ababa\n\tfor f in x; do \\\na: b", EachLine (ChangeEach (codes "X") (edits.SetOperator PosixSimple)), Accepted 2 2 (span 5 8 (codes "::=") ∷ span 13 14 (codes "::=") ∷ []) (Becomes (codes "d:\nX ::= =\nX ::= ababa\n\tfor f in x; do \\\na: b"))) ∷  -- further-582
    (codes "F\\\n!=\na: a | b\n\ta\\\r\n\tb\na\\b: c\n", AddLine (AfterVar None (codes "F")) (NewRule (codes "d") Single []), Accepted 1 0 (span 6 6 (codes "d:\n") ∷ []) (Becomes (codes "F\\\n!=\nd:\na: a | b\n\ta\\\r\n\tb\na\\b: c\n"))) ∷  -- further-583
    (codes "c:: ; true\nF ::= b a\\  \n>x \\ y\n>true\n>true\nc d:  | a d\nifdef A\nifdef A\nF := -O2\t;\\\n$$\\\n a\\$#\nF = a b\nF = a b\na: b& a $(w a) ; true\n\tcc -s \\\n>y\n\nc&: ;\n\tt\n\tt\n", EachLine (ChangeEach (codes "F") (edits.ReplaceWord (codes "a\\$#") (codes "-g $(w a)"))), Accepted 1 1 (span 88 92 (codes "-g $(w a)") ∷ []) (Becomes (codes "c:: ; true\nF ::= b a\\  \n>x \\ y\n>true\n>true\nc d:  | a d\nifdef A\nifdef A\nF := -O2\t;\\\n$$\\\n -g $(w a)\nF = a b\nF = a b\na: b& a $(w a) ; true\n\tcc -s \\\n>y\n\nc&: ;\n\tt\n\tt\n"))) ∷  -- further-584
    (codes "c d: b $(w a) x.o\\\n x.o\na: x.o | b\n\tfor f in x; do \\\n\t  cc $$f; \\\n\tdone\n\nifdef A\nc d: x.o x.o\nifdef A\n", ExchangeLines (AfterRun None (block_lines (codes "c d: x.o x.o\nifdef A"))) (block_lines (codes "X = ababa\nF = a \\")), NotMade 2 (BadArgument field.Block)) ∷  -- further-585
    (codes "export F:= b\t$(A -g)  b ;\nX = ababa\nF += a\n", EachLine (ChangeEach (codes "F") (edits.ReplaceWord (codes ";") (codes "a"))), Accepted 1 1 (span 24 25 (codes "a") ∷ []) (Becomes (codes "export F:= b\t$(A -g)  b a\nX = ababa\nF += a\n"))) ∷  -- further-586
    (codes "# X = \0\r\na.b\\\n?= $(s (b) a)\\\n= \\\n \\\n a ${c} \\\n \\\n x=1 \nF =\\\n ; $  a \nF := b x=1 \\\n#X = r\\\r\n s\n> \na\\b\t\\\n c\na: b\n", EachLine (ChangeEach (codes "F") (edits.SetOperator Recursive)), Accepted 2 2 (span 57 58 (codes "=") ∷ span 71 73 (codes "=") ∷ []) (Becomes (codes "# X = \0\r\na.b\\\n?= $(s (b) a)\\\n= \\\n \\\n a ${c} \\\n \\\n x=1 \nF =\\\n ; $  a \nF = b x=1 \\\n#X = r\\\r\n s\n> \na\\b\t\\\n c\na: b\n"))) ∷  -- further-587
    (codes "i: b& a | a d\r\n\tcc -s x\r\nc: b& b& a#| b\r\nendif\r\nc: a\r\n\tb\r\nc d: $(w a)\r\n\ta\\\r\n\tb", ChangePrereqs None (codes "d") (ReplacePrereq (codes "$(w a)") (codes "$x")), Accepted 1 1 (span 63 69 (codes "$x") ∷ []) (Becomes (codes "i: b& a | a d\r\n\tcc -s x\r\nc: b& b& a#| b\r\nendif\r\nc: a\r\n\tb\r\nc d: $x\r\n\ta\\\r\n\tb"))) ∷  -- further-588
    (codes "F\\\n::= \\\n    b a\nF = a:b\nF = a\\\n -O2 b $(A -g) a:b\n-include b.mk\ninclude a.mk\nX = 1\ni: b b& | b\nifdef A\nifdef A\n", ChangePrereqs None (codes "i") (ReplacePrereq (codes "b&") (codes "$$")), Accepted 1 1 (span 89 91 (codes "$$") ∷ []) (Becomes (codes "F\\\n::= \\\n    b a\nF = a:b\nF = a\\\n -O2 b $(A -g) a:b\n-include b.mk\ninclude a.mk\nX = 1\ni: b $$ | b\nifdef A\nifdef A\n"))) ∷  -- further-589
    (codes "#F = a\\\n", ExchangeLines (AtPlace Bottom) (block_lines (codes "#F = a\\")), NotMade 1 (BadArgument field.Block)) ∷  -- further-590
    (codes "\t\r\n\t#F = t\nc: b& ; true\n\tcc -s \\\n>y\n\tfor f in x; do \\\n\t  cc $$f; \\\n\tdone\n\tfor f in x; do \\\n\t  cc $$f(\\\n\tdone\n \nc d: x.o\nexport F= #", AddLine (AfterVar None (codes "F")) (NewAssign (codes "F") Immediate []), Accepted 1 0 (span 131 131 (codes "\r\nF :::=\r\n") ∷ []) (Becomes (codes "\t\r\n\t#F = t\nc: b& ; true\n\tcc -s \\\n>y\n\tfor f in x; do \\\n\t  cc $$f; \\\n\tdone\n\tfor f in x; do \\\n\t  cc $$f(\\\n\tdone\n \nc d: x.o\nexport F= #\r\nF :::=\r\n"))) ∷  -- further-591
    (codes "F = a:b\na: b $(w a) ; true\n\tcc -s \\\n>y\n# n\n\ta\\\r\n\tb\nF != | ;\\\n\\\n-g ", ExchangeLines (AtPlace (BeforeVar (Some 2) (codes "F"))) (block_lines (codes "\n")), Accepted 2 0 (span 51 51 (codes "\n\n") ∷ []) (Becomes (codes "F = a:b\na: b $(w a) ; true\n\tcc -s \\\n>y\n# n\n\ta\\\r\n\tb\n\n\nF != | ;\\\n\\\n-g "))) ∷  -- further-592
    (codes "vpath %.c a\nd:: ; true\n# \\\n n\n\ta \\\n\tb\n\ttrue\n# F=-g b\nendef\n\ttrue\n", ExchangeLines (OfRun None (block_lines (codes "endef"))) [], NotMade 0 Leans) ∷  -- further-593
    (codes "a.b := = ; b = |\n", ChangeValue Every (codes "a.b") (edits.SetIf (codes "= ; b = |") (codes "$ b")), Accepted 1 1 (span 7 16 (codes "$ b") ∷ []) (Becomes (codes "a.b := $ b\n"))) ∷  -- further-594
    (codes "\t#F = t\nX !=\\\n -O2# \\\n d\nc: a\n\ttrue\nifdef A\nifdef A\n${g(} ::define ::=\\\n\t\\$x# x ; y : z = 1\nifdef A\nF\\\n= b\nelse\nF= = -g# \\\n d\nendif\nifdef A\nF= a:b #\nendif\n", EachLine (ChangeEach (codes "F") (edits.SetOperator Recursive)), Accepted 3 3 (span 103 104 (codes "=") ∷ span 113 114 (codes "=") ∷ span 141 142 (codes "=") ∷ []) (Becomes (codes "\t#F = t\nX !=\\\n -O2# \\\n d\nc: a\n\ttrue\nifdef A\nifdef A\n${g(} ::define ::=\\\n\t\\$x# x ; y : z = 1\nifdef A\nF\\\n= b\nelse\nF= = -g# \\\n d\nendif\nifdef A\nF= a:b #\nendif\n"))) ∷  -- further-595
    (codes ".RECIPEPREFIX = X\nc: a\n\t  cc $$f; \\\nF += a\nF = aaa aaaa # aa\nexport F += | -O2\\\n a\\  \\\n|\n", ChangeLine None (codes "F") (edits.Prepend (codes "$(t -g)")), Accepted 1 1 (span 47 47 (codes "$(t -g) ") ∷ []) (Becomes (codes ".RECIPEPREFIX = X\nc: a\n\t  cc $$f; \\\nF += a\nF = $(t -g) aaa aaaa # aa\nexport F += | -O2\\\n a\\  \\\n|\n"))) ∷  -- further-596
    (codes "c:: a\n\ta\n\ta\\\\\n\t\ttrue\nexport F= \nx.o:: a | b\n\n>true\n # n\ninclude c: a\n \n\tifdef Q\n\tifdef Q\ni: b& $(w a)\\\n x.o\n", AddLine (BeforeVar None (codes "F")) (NewRule (codes "c") Double (codes "a b")), Accepted 1 0 (span 21 21 (codes "c:: a b\n") ∷ []) (Becomes (codes "c:: a\n\ta\n\ta\\\\\n\t\ttrue\nc:: a b\nexport F= \nx.o:: a | b\n\n>true\n # n\ninclude c: a\n \n\tifdef Q\n\tifdef Q\ni: b& $(w a)\\\n x.o\n"))) ∷  -- further-597
    (codes ".RECIPEPREFIX = t\n#X ?= $(x) # n\ni: a ; true\n\ta\\\r\n\tb\n\ni: $(w a) b& x.o ; true\nvpath %.c a\nX =  \nc: a\n>x \\ y\n> a\nelse\n", AddLine (AfterRule None (codes "i")) (NewRule (codes "x.o") Single (codes "a b")), NotMade 1 (Ambiguous 2)) ∷  -- further-598
    (codes ".RECIPEPREFIX = $x\nc::\nifdef A\n\ta\nendif\nc:\n\ta\nifdef A\n\tb\nX = 1\nendif\nc: ; true\nF\\\n= $(a b) -O2\\\n\tb\n\ttrue\n", ExchangeLines (OfRuleRun (Some 2) (codes "c")) (block_lines (codes "c::\nifdef  A\n\ta\nendif")), NotMade 4 RecipePrefix) ∷  -- further-599
    []

answers_12 : map (λ row. account row.0 row.1) rows_12 ≡ map (λ row. row.2) rows_12
answers_12 = refl

abbrev rows_13 : List (List ℕ × Edit × Account)
rows_13 =
    (codes "F =b a\nX = 1\noverride define X =\n-include b.mk\nendef\n", EachLine (ChangeEach (codes "X") (edits.Prepend (codes "a -g"))), Accepted 1 1 (span 11 11 (codes "a -g ") ∷ []) (Becomes (codes "F =b a\nX = a -g 1\noverride define X =\n-include b.mk\nendef\n"))) ∷  -- further-600
    (codes "override F =$$ \\ \\\n \\\n -O2 b# c", AddLine (AfterLastVar (codes "X")) (NewRule (codes "include") Double (codes "a b")), NotMade 1 Reserved) ∷  -- further-601
    (codes "ifdef A\nF::= ${v a \\\n    -O2 -g\\\n\\\na\\$ x$(a  b) # \\\n d\nelse\nF = \\\n \\\n -g  b\\\n\\\nb \nendif\nexport F =a b\\\n# a \\\\", ExchangeLines (AtPlace (AfterRule (Some 1) (codes "include"))) (block_lines (codes "a:\nifdef A\nendif")), NotMade 3 Reserved) ∷  -- further-602
    (codes "#exportF = 1\nifdef A\nF\\\n?= $(\rb)  = -g\nelse\nexport F ?= $(A -g) $(w \\\n a)#\nendif\n", AddLine (AfterRule None (codes "a b")) (NewAssign (codes "X") Conditional (codes "x=1 =")), NotMade 1 (BadArgument field.Place)) ∷  -- further-603
    (codes "F\\\n= $(a\tb)# c\na\\b: c\n#X = 1\nd: ;\n\ta\\\n>b\ninclude a.mk\n", ChangeValue Every (codes "F") (edits.SetIf (codes "$(a\tb)") []), Accepted 1 1 (span 5 11 [] ∷ []) (Becomes (codes "F\\\n= # c\na\\b: c\n#X = 1\nd: ;\n\ta\\\n>b\ninclude a.mk\n"))) ∷  -- further-604
    (codes "c include: ; true\n\t\ttrue\n\ta\\\\\n\tt\n\trm -rf x\nF ::=$(A -g) $$\\\n \\ \nF:=  $x $(t \\\n -g) ${v a #\n", ExchangeLines (AtPlace (AfterVar None (codes "F"))) (block_lines (codes "a:\nifdef A\nendif")), NotMade 3 (Ambiguous 2)) ∷  -- further-605
    (codes "X != $\\ $x\na\\b: c\nF = \nF += \nc d: # c\n\tifdef Q\nendef\n", EachLine (ChangeEach (codes "F") (edits.Prepend (codes "$\\x"))), Accepted 2 2 (span 22 22 (codes "$\\x") ∷ span 28 28 (codes "$\\x") ∷ []) (Becomes (codes "X != $\\ $x\na\\b: c\nF = $\\x\nF += $\\x\nc d: # c\n\tifdef Q\nendef\n"))) ∷  -- further-606
    (codes "override =  \\\n    #\nc:  | b\n\ttrue\n\ta\\\r\n\tb\n", AddLine (BeforeRule None (codes "c")) (NewAssign (codes "a.b") Immediate (codes "=")), Accepted 1 0 (span 20 20 (codes "a.b :::= =\n") ∷ []) (Becomes (codes "override =  \\\n    #\na.b :::= =\nc:  | b\n\ttrue\n\ta\\\r\n\tb\n"))) ∷  -- further-607
    (codes "a:  ; true\r\n# n\nifdef A\\\n", ExchangeLines (AtPlace (BeforeRule None (codes "a"))) (block_lines (codes "ifdef A\nelse\ndefine D")), NotMade 3 Misread) ∷  -- further-608
    (codes "ifdef A\nF !=\\\n\t-O2\\\n-g b\\\n ${c} $#\nendif\n", ChangeValue Every (codes "X") (edits.SetIf (codes "a#") (codes "\\# =")), NotTried (BadArgument field.Old)) ∷  -- further-609
    (codes "else\n# n\nendif\na: a a\\\n\t\\\nx.o\n\tcc -s y; cc -s z\n", AddLine Top (NewRule (codes "include") Single (codes "a")), NotMade 1 Reserved) ∷  -- further-610
    (codes ".RECIPEPREFIX = >\nc: b b\n\tcc -s x\nifdef A\n\tcc -s x\nF :=a:b # \\\n d\nc: ;\n# \\\n n\n\n\ta\nF = aaa aaaa # aa", ChangeValue Every (codes "F") (edits.SetIf (codes "a:b") (codes "$(a b)")), Accepted 1 1 (span 55 58 (codes "$(a b)") ∷ []) (Becomes (codes ".RECIPEPREFIX = >\nc: b b\n\tcc -s x\nifdef A\n\tcc -s x\nF :=$(a b) # \\\n d\nc: ;\n# \\\n n\n\n\ta\nF = aaa aaaa # aa"))) ∷  -- further-611
    (codes "F != \\\r\n | \\ b \nX = 1\nendef\nX = ababa\n\na: b& $(w a) b& ; true\n\tfor f in x; do \\\n\t  cc $$f; \\\n\tdone\n\tfor f in; x; do \\\n\t  cc $$f; \\\n\tdone\nexport F =  \\\n\nF += a\n", ExchangeLines (AtPlace (BeforeRule None (codes "a"))) (block_lines (codes "F += a")), Accepted 1 0 (span 39 39 (codes "F += a\r\n") ∷ []) (Becomes (codes "F != \\\r\n | \\ b \nX = 1\nendef\nX = ababa\n\nF += a\r\na: b& $(w a) b& ; true\n\tfor f in x; do \\\n\t  cc $$f; \\\n\tdone\n\tfor f in; x; do \\\n\t  cc $$f; \\\n\tdone\nexport F =  \\\n\nF += a\n"))) ∷  -- further-612
    (codes "#X = r\\\r\n s\n", AddLine Bottom (NewAssign (codes "X") Append (codes "$(s (b) a) a\\\\")), NotMade 1 (BadArgument field.Value)) ∷  -- further-613
    (codes "c d: b ; true\n\tcc -s x\nc&: ;\n\ta # b\n\ttrue\n\trm -rf x\nF = $(a b) \\\n\\ b $\\ x=1 \n# x ; y : z = 1\n #\\\\\n", ChangeValue Every (codes "F") (edits.SetIf (codes "$(a b) \\ b $\\ x=1") []), Accepted 1 1 (span 56 76 [] ∷ []) (Becomes (codes "c d: b ; true\n\tcc -s x\nc&: ;\n\ta # b\n\ttrue\n\trm -rf x\nF = \n# x ; y : z = 1\n #\\\\\n"))) ∷  -- further-614
    (codes "F ::= b\\\n =\n#exportF = 1\nF += -g\nF += -g\nF=-g", EachLine (ChangeEach (codes "F") (edits.ReplaceWord (codes "=") (codes "-O2"))), Accepted 1 1 (span 10 11 (codes "-O2") ∷ []) (Becomes (codes "F ::= b\\\n -O2\n#exportF = 1\nF += -g\nF += -g\nF=-g"))) ∷  -- further-615
    (codes "F\\\n= a -O2#-g\nc::\n># n\nifdef A\n>\ttrue\nX ?= |\\\na\tx=1 ${v a\nX\\\n?=a$\\\\\n $(w \\\n a) a\\ \\\n\\\n$(a\tb) $\\\n#\nexport F\\\n= $ \n\tababa aaa\\", SwitchLine CommentOut None (codes ".RECIPEPREFIX"), NotTried Reserved) ∷  -- further-616
    (codes "#\\\\\nifdef\\A\n# \\\n", ExchangeLines (AtPlace (AfterVar (Some 4294967295) (codes "F"))) (block_lines (codes "X = ababa\na\\")), NotMade 2 (BadArgument field.Block)) ∷  -- further-617
    (codes " \\\n\tb : foo \tc .PHONY | $(s\\) $$\\\n\t# x ; y : z = 1\nF = x=1 b = \\\n \\\n a -O2 # a \\\\\n", EachLine (ChangeEach (codes "F") (edits.ReplaceWord (codes "=") (codes "a"))), Accepted 1 1 (span 61 62 (codes "a") ∷ []) (Becomes (codes " \\\n\tb : foo \tc .PHONY | $(s\\) $$\\\n\t# x ; y : z = 1\nF = x=1 b a \\\n \\\n a -O2 # a \\\\\n"))) ∷  -- further-618
    (codes "ifdef A\r\nX\\\r\n!= b | \\\r\n $(A -g)\\\r\nx$(a  b) Ã©# c\r\nendif\r\na.b = -g\r\na.b += -g\r\noverride define X =\r\n\ttrue\r\n$(call t,x)\r\nendef\r\n#F \\\r\n= 1\r\n", ExchangeLines (OfRuleRun (Some 2) (codes "include")) (block_lines (codes "include:\n# n\n")), NotMade 3 Reserved) ∷  -- further-619
    (codes "override += b\\\n\\\n$(a b) $(a b)\noverride=-g\noverride += -g\nX = $\\\\\n-O2\nX=a\nF = ${c} -g \\\r\n b\nF += a\n", AddLine (AfterVar None (codes "override")) (NewAssign (codes "F") Append (codes "-g -g")), NotMade 1 (Ambiguous 3)) ∷  -- further-620
    (codes "F = \r\nF=\r\n#F \\\r\n= 1\r\ni: b& b&\r\n\ta\\\r\n\tb\r\nifdef A\r\n.RECIPEPREFIX = \r\nF = \r\nX = b# \\\r\n d\r\n", EachLine (SubstRecipes (codes "a") []), NotTried RecipePrefix) ∷  -- further-621
    (codes "# override \\\n X = 1\nexport F\\\n?= a\\\n\ta \ni: a ; true\n\tfor f in x; do \\\n\t  cc $$f; \\\n\tdone\n# n\n\tcc -s \\\n>y\nF = -g | -g  -O2 \n#X = a\\\\ \\\n b\n", ExchangeLines (AtPlace (BeforeRule None (codes "i"))) (block_lines (codes "ifdef B\nifdef C\nendif\nendif")), Accepted 4 0 (span 40 40 (codes "ifdef B\nifdef C\nendif\nendif\n") ∷ []) (Becomes (codes "# override \\\n X = 1\nexport F\\\n?= a\\\n\ta \nifdef B\nifdef C\nendif\nendif\ni: a ; true\n\tfor f in x; do \\\n\t  cc $$f; \\\n\tdone\n# n\n\tcc -s \\\n>y\nF = -g | -g  -O2 \n#X = a\\\\ \\\n b\n"))) ∷  -- further-622
    (codes "#X = r\\\r\n s\nc::\n\ta\nifdef A\n\tb\nX = 1\nendif\nF = a\nc: a\\\n x.o\n# n", EachLine (ChangeEach (codes "X") (edits.ReplaceWord (codes "1") (codes "x=1"))), Accepted 1 1 (span 34 35 (codes "x=1") ∷ []) (Becomes (codes "#X = r\\\r\n s\nc::\n\ta\nifdef A\n\tb\nX = x=1\nendif\nF = a\nc: a\\\n x.o\n# n"))) ∷  -- further-623
    (codes "endef\n  b\nF = a \\\nd: ; true\n\tifdef Q\n\t\nifdef A\n\tsay \"q\"\nF :=-g\ta ; $\\\n", EachLine (SubstRecipe None (codes "c") (codes " ") (codes "a\r")), NotTried (BadArgument field.To)) ∷  -- further-624
    (codes "export F= $(t \\\n -g) \\\r\n b -g $$ # \\\n d\nX=$(a b) x$(a  b)\nX=a b\nX = a b\nifdef A\nexport override ::= endef(w \\\n a) x$(a  b) \\\n    - # \\\n d\nendif\nifdef A\noverride X\\\n= b -g -g\\\n\\\nÃ© -O2\nendif\nelse\n$(call t,x)\n#X = 1", AddLine (AfterRule None (codes "include")) (NewAssign (codes "X") Append (codes "\\\\a")), NotMade 1 Reserved) ∷  -- further-625
    (codes "include a.mk\r\na: b\r\nX = 1\r\noverride define X =\r\n\r\nendef\r\nifdef A\r\nexport a.b ::=  \r\nendif\r\nc&: ;\r\n\ta\r\nifdef A\r\n", EachLine (ChangeEach (codes "a.b") (edits.Substitute (codes "cc") (codes "\0"))), NotTried (BadArgument field.To)) ∷  -- further-626
    (codes "export a.b = a\r\ndefine D\nX = 1\nendef\n$(call t,x)\n\tfor f in x; do \\\nF = aaa aaaa # aa\nifdef A\nF= a -g\\\nb ${v a\nelse\nF\\\n=-O2\t$\\\n\nendif\n", AddLine (AfterVar None (codes "F")) (NewRule (codes "c") Double (codes "a")), NotMade 1 (Ambiguous 2)) ∷  -- further-627
    (codes "include a.mk\n\tababa aaa\nF = aaa aaaa # aa\n.RECIPEPREFIX ?= >\nF = -g\nF += -g\nc d: b\n\tcc -s \\\n>y\nifdef A\nifdef A\n#X = r\\\r\n s\nifdef A\na.b :=\\\n\t=\nelse\nF != $(a b) |\nendif", ExchangeLines (AtPlace (AfterVar (Some 4294967295) (codes "F"))) (block_lines (codes "ifdef B\nifdef C\nendif\nendif")), NotMade 4 RecipePrefix) ∷  -- further-628
    (codes "c: ;\r\n>ifdef Q\r\nF\\\r\n!=a\\\r\n a -g # \\\r\n d\r\n#X ?= $(x) # n\r\nifdef B\r\nc::\r\n# n\r\n\ta\r\nF = a\r\nendif\r\n", AddLine (AfterVar (Some 2) (codes "F")) (NewAssign (codes "F") PosixSimple (codes "x=1 b")), Accepted 1 0 (span 87 87 (codes "F ::= x=1 b\r\n") ∷ []) (Becomes (codes "c: ;\r\n>ifdef Q\r\nF\\\r\n!=a\\\r\n a -g # \\\r\n d\r\n#X ?= $(x) # n\r\nifdef B\r\nc::\r\n# n\r\n\ta\r\nF = a\r\nF ::= x=1 b\r\nendif\r\n"))) ∷  -- further-629
    (codes "c: x.o a x.o ; true\n\tcc -s x\noverride F ?= \n# F=-g b", AddLine (AfterVar None (codes "F")) (NewAssign (codes "F") Recursive (codes "${c} x$(a  b)")), Accepted 1 0 (span 44 44 (codes "F = ${c} x$(a  b)\n") ∷ []) (Becomes (codes "c: x.o a x.o ; true\n\tcc -s x\noverride F ?= \nF = ${c} x$(a  b)\n# F=-g b"))) ∷  -- further-630
    (codes "F::= -O2 \\\n \\\n -g#\nF\\\n:= $(a\tb) -g# c\nifdef A\nF= a -O2 -O2 -g #\nelse\nF\\\n!= $(t \\\n -g) ${c} -g -O2 \\\n    a \nendif\ni: x.o b | a d\n# n\n\tcc -s x\n\tfor f in x; do \\\n\t  cc $$f; \\\n\tdone\n\tfor f in x; do \\\nF = a \\\nendef\n", AddLine (BeforeRule None (codes "i")) (NewAssign (codes "F") Recursive (codes "\\\\a")), Accepted 1 0 (span 113 113 (codes "F = \\\\a\n") ∷ []) (Becomes (codes "F::= -O2 \\\n \\\n -g#\nF\\\n:= $(a\tb) -g# c\nifdef A\nF= a -O2 -O2 -g #\nelse\nF\\\n!= $(t \\\n -g) ${c} -g -O2 \\\n    a \nendif\nF = \\\\a\ni: x.o b | a d\n# n\n\tcc -s x\n\tfor f in x; do \\\n\t  cc $$f; \\\n\tdone\n\tfor f in x; do \\\nF = a \\\nendef\n"))) ∷  -- further-631
    (codes ".RECIPEPREFIX = t\nc d: $(w a) b& | a d\n\ttrue\nelse\nF\\\n?= -O2 ; $# $(w \\\n a)", ChangeLine None [] (edits.ReplaceWord (codes "$\\x") (codes "$\\x")), NotTried (BadArgument field.Name)) ∷  -- further-632
    (codes "X =#-g\n#export = 1\nc d: b& a\n# n\n\tcc -s \\\n>y\nendif\n", EachLine (ChangeEach (codes ".RECIPEPREFIX") (edits.SetOperator Conditional)), NotTried Reserved) ∷  -- further-633
    (codes "c: a | b\r\n\ta\nc d: \\\n x.o\n\ttrue\n\tcc -s \\\n>y\n", ExchangeLines (OfRuleRun None (codes "a b")) [], NotMade 0 (BadArgument field.Target)) ∷  -- further-634
    (codes "X\\\n=-O2 a\na: $(w a) $(w a) $(w a) | b\n\tcc -s y; cc -s z\n\ttrue\n\tfor f in x; do \\\n\t  cc $$f; \\\n\tdone\nc:: ;\nelse\nc: a\nc: a | b\nifdef A\n\ta\nendif\nF = a\nifdef A\na.b\\\n+= | -O2 a a:b\nelse\noverride != |\t$(s (b) a) \\\r\n $(a b)\nendif\n", EachLine (ChangeEach (codes "F") (edits.ReplaceWord (codes "a") (codes "$(s (b) a) a"))), Accepted 1 1 (span 145 146 (codes "$(s (b) a) a") ∷ []) (Becomes (codes "X\\\n=-O2 a\na: $(w a) $(w a) $(w a) | b\n\tcc -s y; cc -s z\n\ttrue\n\tfor f in x; do \\\n\t  cc $$f; \\\n\tdone\nc:: ;\nelse\nc: a\nc: a | b\nifdef A\n\ta\nendif\nF = $(s (b) a) a\nifdef A\na.b\\\n+= | -O2 a a:b\nelse\noverride != |\t$(s (b) a) \\\r\n $(a b)\nendif\n"))) ∷  -- further-635
    (codes "F= = \\\n    $\\ a$\\ -g a$\\#-g\nexport F= a a:b \\\\\na: b $(w a) x.o\n", EachLine (ChangeEach (codes "F") (edits.Prepend (codes "\\#"))), Accepted 2 2 (span 3 3 (codes "\\# ") ∷ span 38 38 (codes "\\# ") ∷ []) (Becomes (codes "F= \\# = \\\n    $\\ a$\\ -g a$\\#-g\nexport F= \\# a a:b \\\\\na: b $(w a) x.o\n"))) ∷  -- further-636
    (codes "\tfor f in x; do \\\n\nc d: a b& | a d\n\tcc -s x\nendif\nF != \n\t#F = t\nc::\n\ta a\n", ExchangeLines (BeforeRun None (block_lines (codes "\tcc -s x"))) (block_lines (codes "F = a \\\n  b")), NotMade 1 Leans) ∷  -- further-637
    (codes ".RECIPEPREFIX = t\nF = a\\\n b\nc d: b&\nifdef A\nF += x=1 -g \\\n    a:b \nelse\nF=a$\\ x=1 -g a \\\n \\\n \\#\nendif\nF?= $\\\n $(w \\\n a) \\\r\n -g -O2 a:b \n#>X = 1\n", ExchangeLines (AtPlace (AfterVar (Some 4) (codes "F"))) (block_lines (codes "define D\nx\nendef")), Accepted 3 0 (span 136 136 (codes "define D\nx\nendef\n") ∷ []) (Becomes (codes ".RECIPEPREFIX = t\nF = a\\\n b\nc d: b&\nifdef A\nF += x=1 -g \\\n    a:b \nelse\nF=a$\\ x=1 -g a \\\n \\\n \\#\nendif\nF?= $\\\n $(w \\\n a) \\\r\n -g -O2 a:b \ndefine D\nx\nendef\n#>X = 1\n"))) ∷  -- further-638
    (codes "# export F = a\r\n#F::=1\r\na: $(w a) ; true\r\n\ta\\\r\n\tb\r\nifdef A\r\n#include = x\r\ndefine D\r\nF = -O2 a:b\\\r\n\\\r\n\r\n", ExchangeLines (AfterRun None (block_lines (codes "\\"))) (block_lines (codes "define D\nx\nendef")), NotMade 3 (BadArgument field.Place)) ∷  -- further-639
    (codes "c::\nifdef A\n\ta\nendif\n\nc::\n# n\n\ta\n", AddLine (BeforeRule (Some 1) (codes "c")) (NewAssign (codes "F") Append (codes "-O2")), Accepted 1 0 (span 0 0 (codes "F += -O2\n") ∷ []) (Becomes (codes "F += -O2\nc::\nifdef A\n\ta\nendif\n\nc::\n# n\n\ta\n"))) ∷  -- further-640
    (codes "ifdef A\nX\\\n::= $\\\n\\\n$$ \nendif\nifdef A\na.b += -g ;\nelse\noverride a.b = b \\\na x=1 a:b b# c\nendif\nF\\\n::= a\nifdef A\nexport F = -g \nelse\noverride =\\\n ; |\\\n a:b \\\n \\\n a#-g\nendif", ChangeLine None (codes ".RECIPEPREFIX") (edits.InsertWord After (codes "$x") (codes "x.c")), NotTried Reserved) ∷  -- further-641
    (codes ".RECIPEPREFIX = >\r\nifdef A\r\n.RECIPEPREFIX = >\r\ni:  ; true\r\nc:\r\n\ta\r\nifdef A\r\n\tb\r\nX = 1\r\nendif\r\nc: a | b\r\na.b = b \\\r\n \\\r\n b\\\r\n-O2 x=1", ChangePrereqs (Some 1) (codes "c") (ReplacePrereq (codes "a&b") (codes "$(f {)")), NotTried RecipePrefix) ∷  -- further-642
    (codes "F=x=1\r\nF = x=1\nF += a\nc d: $(w a) b& b\nifdef A\nendif\n\ttrue\n\t${g(}:a\ndefine D\n-include b.mk\n$(call t,x)\nF += a\nendef\nc: # c\n# c", EachLine (ChangeEach (codes "F") (edits.Prepend (codes "-O2"))), Accepted 3 3 (span 2 2 (codes "-O2 ") ∷ span 11 11 (codes "-O2 ") ∷ span 20 20 (codes "-O2 ") ∷ []) (Becomes (codes "F=-O2 x=1\r\nF = -O2 x=1\nF += -O2 a\nc d: $(w a) b& b\nifdef A\nendif\n\ttrue\n\t${g(}:a\ndefine D\n-include b.mk\n$(call t,x)\nF += a\nendef\nc: # c\n# c"))) ∷  -- further-643
    (codes "X = a \\\n$ \nX= a \n", EachLine (ChangeEach (codes "X") (edits.Prepend (codes "$(t -g)"))), Accepted 2 2 (span 4 4 (codes "$(t -g) ") ∷ span 14 14 (codes "$(t -g) ") ∷ []) (Becomes (codes "X = $(t -g) a \\\n$ \nX= $(t -g) a \n"))) ∷  -- further-644
    (codes "F = a\r\nF = | ;  $(a\tb)\r\nF\\\r\n= -g \\\r\n-O2 $$# a \\\\\r\nc:\r\n# n\r\n\ta\r\n\r\nX := -O2 -g -g\r\nc c:\r\n\t\ttrue\r\nifdef B\r\nc: a\r\nifdef A\r\n\ta\r\nendif\r\n\r\n\tb\r\nF = a\r\nc: a | b\r\nelse\r\n\tx\r\nendif\r\n", EachLine (ChangeEach [] (edits.Substitute [] (codes " \\"))), NotTried (BadArgument field.Name)) ∷  -- further-645
    (codes ".RECIPEPREFIX = t\nc d: \ndefine D\n$(call t,x)\nF += a\n\tcc -s x\nendef\n.RECIPEPREFIX = $x\n", SwitchLine CommentOut (Some 2) (codes "X"), NotTried RecipePrefix) ∷  -- further-646
    (codes "override\\\n:= -O2  |\\\nx$(a  b)\ni: b b& x.o | a d\n\tfor f in x; do \\", AddLine (AfterRule None (codes "i")) (NewRule (codes "d") Double (codes "a b")), NotMade 1 OpenLine) ∷  -- further-647
    (codes "c %.o:: # c\n# \\\n n\nifdef A\nF = a \\\nX = 1\nF\\\n?=\nc d&: ;\n> a\n>>a\ndefine D \\\n e\ninclude a.mk\ndefine E\nX\nendef\nendef\n#X: = 1\n", ExchangeLines (AtPlace (BeforeVar None (codes "F"))) (block_lines (codes "ifdef A")), NotMade 1 (Ambiguous 2)) ∷  -- further-648
    (codes "\t# c\nX != a:b $\\\n ;# c\n#F\n", AddLine (BeforeVar None (codes "X")) (NewAssign (codes "F") Recursive (codes "$(t -g)")), Accepted 1 0 (span 5 5 (codes "F = $(t -g)\n") ∷ []) (Becomes (codes "\t# c\nF = $(t -g)\nX != a:b $\\\n ;# c\n#F\n"))) ∷  -- further-649
    []

answers_13 : map (λ row. account row.0 row.1) rows_13 ≡ map (λ row. row.2) rows_13
answers_13 = refl

abbrev rows_14 : List (List ℕ × Edit × Account)
rows_14 =
    (codes "ifdef A\nX\\\n+= a # a \\\\\nelse\nX\\\n=  \nendif\n#Y=\n.RECIPEPREFIX ?= >\nX = 1\noverride X\\\n= b x=1\\\n\t$(w \\\n a) -g\nc: a\nifdef A\n\ta\nendif\n\n\tb\n", ExchangeLines (OfRuleRun (Some 4294967295) (codes "c")) [], NotMade 0 RecipePrefix) ∷  -- further-650
    (codes "endif\r\nc: ;\n\ta\n\trm -rf x\n\tt\nF += a b\nF = a b\ni: a $(w a) $(w a) | a d\n\tfor f in x; do \\\n\t  cc $$f; \\\n\tdone\nifdef A\n", ChangePrereqs None (codes "i") (ReplacePrereq (codes "${v") (codes "$(w a)")), NotTried (BadArgument field.Old)) ∷  -- further-651
    (codes "F := -g\nF= $# b \\\nb\ni: x.o b $(w a)\\\n x.o\n\n\ta\\\r\n\tb\n\n", ExchangeLines (BeforeRun None (block_lines [])) (block_lines (codes "ifdef A")), NotMade 1 (Ambiguous 2)) ∷  -- further-652
    (codes "c: a | b\n\ty\r\n\tsay \"q\"\n\ttrue\n# private Y=c\n", AddLine (AfterVar (Some 0) (codes ".RECIPEPREFIX")) (NewRule (codes "c") Single (codes "a b")), NotMade 1 Reserved) ∷  -- further-653
    (codes "X=a\nX += b -g\n", ChangeLine None (codes "X") (edits.Prepend (codes "x=1 -g")), NotTried (Ambiguous 2)) ∷  -- further-654
    (codes "ifdef B\nc: a\n\ta\nifdef A\n\tb\nX = 1\nendif\nc: a\nifdef A\n\ta\nendif\n\nendif\n#override\texport X := b\na:  | a d\n# n\n\tcc -s x\n\tcc -s x\nX= a:b $# x$(a  b)\t#\n", AddLine (BeforeVar None (codes "X")) (NewAssign (codes "override") Append []), NotMade 1 (Ambiguous 2)) ∷  -- further-655
    (codes "F =b\\\r\n\\\n-g\ta\ndefine D\n\nendef\n#export = 1\ni: \n# n\n\ttrue\nc: a\n\ttrue\n\t  cc $$f; \\\n", AddLine Bottom (NewRule (codes "include") Double (codes "a")), NotMade 1 Reserved) ∷  -- further-656
    (codes "X\\\n=a a\\  \\\\\n$# -g# \\\n d\nc: a\n\ta a\n\nc: a\n# n\n\ta\nF = a\nc c: ;\n\trm -f x\nifeq (a,b)\n\ttrue\n#export = 1\n", EachLine (ChangeEach (codes "$(X)") (edits.Prepend (codes "-g"))), NotTried (BadArgument field.Name)) ∷  -- further-657
    (codes "c d: x.o b b ; true\r\n.RECIPEPREFIX ?= >\na: \\\n x.o\n\tfor f in x; do \\\n\t  cc $$f; \\\n\tdone\n\ta\\\r\n\tb\n", ExchangeLines (OfRun None (block_lines (codes "\tfor f in x; do \\\n\t  cc $$f; \\\n\tdone\n\ta\\\n\tb"))) [], NotMade 0 RecipePrefix) ∷  -- further-658
    (codes "a.b ?= \\\\ $\\\noverride= -O2 \\\n# a \\\\\nc d: x.a\nifdef A\n\tcc -s x\nc: ;\n\t a\n\ttrue\n\ta\ni: x.o x.o | a d\n\ta\\\r\n\tb", ChangeLine None (codes ".RECIPEPREFIX") (edits.Prepend (codes "b")), NotTried Reserved) ∷  -- further-659
    (codes "include:\n\n\ttrue\nifdef A\nX\\\n= b b \\\n    $\\\n \\\n$(a\tb) \\\n    -g# \\\n d\n", AddLine (BeforeRule None (codes "include")) (NewAssign (codes "t") Immediate (codes "$(t -g)")), NotMade 1 Reserved) ∷  -- further-660
    (codes "#X: = 1\nF\\\n= b $\\", AddLine (AfterLastVar (codes "F")) (NewRule (codes "d") Double []), NotMade 1 OpenLine) ∷  -- further-661
    (codes "F?=-O2\\\r\n -O2\\\n\\\n\\ b\\\n a -O2\nifdef B\nc:\n\ta\nifdef A\n\tb\nelse\n\ta\nendif\n\n\nc::\n\ta a\nendif\nc d: b $(w a) a | b\n\tcc -s x", ExchangeLines (AfterRun None (block_lines (codes "\ta"))) (block_lines (codes "X = ababa\nF = aaa aaaa # aa\n-include b.mk")), NotMade 3 (Ambiguous 2)) ∷  -- further-662
    (codes ".RECIPEPREFIX = >\r\n#X = 1", AddLine (AfterVar None (codes "$(X)")) (NewRule (codes "include") Single (codes "a")), NotMade 1 (BadArgument field.Place)) ∷  -- further-663
    (codes "c: $(w a) b& a ; true\n\tcc -s \\\n>y\nendif\n# n\nF += a\na.b := $(A -g)\\\n x=1 \\\r\n -g# a \\\\\n", ChangeLine (Some 4294967295) (codes "$(X)") (edits.InsertWord After (codes "a") (codes "-g")), NotTried (BadArgument field.Name)) ∷  -- further-664
    (codes "override\\\n+= $x \\\n${v a -O2 \\\n$\nF=$(A -g) \\\n-O2 $(a b) \\\r\n \n\t \n", ExchangeLines (AtPlace (AfterLastVar (codes "F"))) (block_lines (codes "F = a \\\nifdef A\nelse")), NotMade 2 Leans) ∷  -- further-665
    (codes "F=  \noverride=-g\noverride=a\\\\ a $$ ;\noverride=-g\n", ExchangeLines (AtPlace (BeforeVar (Some 1) (codes "override"))) (block_lines (codes "ifeq (a,b)\n\tababa aaa")), NotMade 2 Misread) ∷  -- further-666
    (codes "i: b& x.o b\r\n# n\r\nF =-O2\r\ndefine D\r\nF = a \\\r\nendef\r\nvpath %.c a\r\na.b ?= b\t-g\t\r\nifdef A\r\nF?= | \\\r\n    $(a b)\t| -O2 \\\r\n \\\r\n \r\nelse\r\nF =a$ \r\nendif\r\n", ExchangeLines (AtPlace (BeforeRule None (codes "i"))) (block_lines (codes "i: b& x.o b")), NotMade 1 Already) ∷  -- further-667
    (codes ".RECIPEPREFIX = $x\nF= b \\\n    | ; x=1\\\na# \\\n d\na.b= b a\n", ChangeLine None (codes "F") (edits.InsertWord After (codes ";") (codes "-O3")), NotTried RecipePrefix) ∷  -- further-668
    (codes "a: x.o | b\n\tcc -s x\n# n\n\tcc -s y; cc -s z\n#override\texport X := b\nd&: a | b\n\t>a\n\t\na.b?=\\\nx=1 b  |\t$(a b)\\\n\tx=1\n#X = r\\\r\n s\n.RECIPEPREFIX ?= >\n", ExchangeLines (AtPlace (AfterLastVar (codes "X"))) (block_lines (codes "endef\ndefine D")), NotMade 2 RecipePrefix) ∷  -- further-669
    (codes "c:\n\ta\nifdef A\n\tb\nelse\n\ta\nendif\n\n\n# n\n\tcc -s x\na: \n\tcc -s x", EachLine (SubstRecipes (codes "a") (codes "\r")), NotTried (BadArgument field.To)) ∷  -- further-670
    (codes "a: \\\r\n x.o\n\tcc -s \\\n>y\nc: a\n\t  cc $$f; \\\n \n", AddLine (AfterLastVar (codes "$(X)")) (NewRule (codes "include") Double []), NotMade 1 (BadArgument field.Place)) ∷  -- further-671
    (codes ".RECIPEPREFIX = $x\nF :=$(t \\\n -g)\t-O2\\\n\\\na\nF =\\\n \nc: a $(w a) b& ; true\n# n\n\tcc -s x\n", ChangeLine (Some 2) (codes "F") (edits.InsertWord Before (codes "$\\x") (codes "x.c")), NotTried RecipePrefix) ∷  -- further-672
    (codes "c:  | b\nd: ; true\n\t\ttrue\n\\\n# c\n#X: = 1\n#X: = 1", ExchangeLines (AtPlace (BeforeVar None [])) (block_lines (codes "else\na")), NotMade 2 (BadArgument field.Place)) ∷  -- further-673
    (codes "\t#\0\n# override \\\n X = 1\ni: $(w a)\n# n", ExchangeLines (AtPlace (BeforeRule None (codes "i"))) (block_lines (codes "# n\nx \\\\\\")), NotMade 2 (BadArgument field.Block)) ∷  -- further-674
    (codes ".RECIPEPREFIX = $x\r\nifdef B\r\nc:\r\n\ta a\r\n\r\nc: a\r\nifdef A\r\n\ta\r\nendif\r\n\r\n\tb\r\n\r\nelse\r\n\tx\r\nendif\r\nF = -g\r\n", ChangeLine (Some 0) (codes "F") (edits.SetOperator Immediate), NotTried RecipePrefix) ∷  -- further-675
    (codes "export F ::= b \\\n \\\n -g \\\r\n \n#\tX := 1\nc d: b b& x.o ; true\nifdef A\na.b = b  ${c}\tÃ©\ni: \\\n x.o\n\tcc -s y; cc -s z\n\tcc -s x\n\ttrue\n\t#\n", AddLine (BeforeVar None (codes "a.b")) (NewAssign (codes "F") Shell (codes "a\\")), NotMade 1 (BadArgument field.Value)) ∷  -- further-676
    (codes ".RECIPEPREFIX = X\nc: a b& b&\n# n\nifdef A\nelse\nF=a $(a b) \\\n    -g\nifdef A\noverride F = a:b\nelse\nX += \\\\\n\t$\\  b \nendif\na.b :=-g $# \\\n    $(w \\\n a)\\\n\t$(a b)\\\n$(a b)\n\tfor f in x; do \\\n", ChangeLine None [] (edits.Prepend (codes "a\\ b")), NotTried (BadArgument field.Name)) ∷  -- further-677
    (codes "c: # c\r\n\ttrue\nifdef A\nc: b\n", ExchangeLines (AtPlace (AfterRule None (codes "c"))) (block_lines (codes "ifdef A\nX = 1\nendif")), NotMade 3 (Ambiguous 2)) ∷  -- further-678
    (codes "a: \\\r\n x.o\r\nifdef A\r\n\ta\\\r\n\tb\r\n\ttrue\r\n  # a.b += x \\\r\n  y\r\nF =\\\r\n\\\r\na x=1 # a \\\\\r\n.RECIPEPREFIX = $x", ChangeLine None (codes "F") (edits.ReplaceWord (codes "a") (codes "-O2 $(s (b) a)")), NotTried RecipePrefix) ∷  -- further-679
    (codes "c:\nifdef A\n\ta\nendif\nc: a | b\n# n\n\ta\n\noverride define X =\n$(call t,x)\nendef\ni: a\\\n x.o\n# n\nendif", AddLine (BeforeRule (Some 1) (codes "c")) (NewAssign (codes "F") Recursive (codes "$ ")), NotMade 1 (BadArgument field.Value)) ∷  -- further-680
    (codes "ifdef A\nF ::= a\nendif\nifdef A\noverride = \\ -O2\tb\nelse\noverride a.b\\\n=a:b ; a\\ \nendif\nc d: x.o b& ; true\n\ttrue\n.RECIPEPREFIX ?= >\nF\\\n:= ", EachLine (ChangeEach (codes "F") (edits.ReplaceWord (codes "a") (codes "$\\x $(a b)"))), NotTried RecipePrefix) ∷  -- further-681
    (codes "F += a\nendif\n$(call t,x)\n", ChangeValue (One None) (codes ".RECIPEPREFIX") (edits.SetIf (codes "$(w a)") (codes "$(A -g)")), NotTried Reserved) ∷  -- further-682
    (codes "c: a | b\nF\\\n:= -g a# a \\\\\nc:\n\ty\r\n\ta\nX=a \\\r\n b\nX = -g\nX = a \\\r\n b\n", ExchangeLines (AtPlace (BeforeRule None (codes "c"))) (block_lines (codes "F = a \\\n  b")), NotMade 1 (Ambiguous 2)) ∷  -- further-683
    (codes "export F += x=1 a\\ # \\\r\n d\r\nF= \\\r\n    a -O2 = -g# \\\r\n d\r\nc: # c\r\n\tsay \"q\"\r\n\ta", EachLine (ChangeEach (codes "$(X)") (edits.SetOperator Recursive)), NotTried (BadArgument field.Name)) ∷  -- further-684
    (codes "c: # c\n\ttrue\n\tt\n\t\ttrue\n\t>a\n.RECIPEPREFIX ?= >\n", EachLine (SubstRecipe None (codes "c") (codes "true") (codes "x")), NotTried RecipePrefix) ∷  -- further-685
    (codes "## F = 1\n.RECIPEPREFIX = $x\n\tcc -s x\n#X = 1\n\ttrue\nd&: a | b\nF += -g\nF += -g\nF=a\nF=a", SwitchLine Uncomment None (codes "X"), NotTried RecipePrefix) ∷  -- further-686
    (codes "F ::= | \\\r\n -O2 $# -O2\\\n -g\nF = # a \\\\\n.RECIPEPREFIX ?= >\n", ChangeValue (One None) (codes "F") (edits.SetIf [] []), NotTried RecipePrefix) ∷  -- further-687
    (codes ".RECIPEPREFIX = X\na: a b& | b\n\ta\\\r\n\tb\n## F = 1\n", AddLine (BeforeVar (Some 0) (codes ".RECIPEPREFIX")) (NewRule (codes "c") Single []), NotMade 1 Reserved) ∷  -- further-688
    (codes ".RECIPEPREFIX = F\nifdef A\nF = $ \\\n b a:b -g# \\\n d\nendif\nc: a\n\ta\nifdef A\n\tb\nelse\n\ta\nendif\n\nc::\n\ta\nifdef A\n\tb\nelse\n\ta\nendif\n\ni: $(w a)\n\tcc -s x\nifdef A\n\ttrue\n", ExchangeLines (AtPlace (BeforeVar None (codes "F"))) (block_lines (codes "x \\\n")), NotMade 1 Leans) ∷  -- further-689
    (codes ".RECIPEPREFIX = F\r\nifdef A\r\nX\\\r\n= x=1# c\r\nendif\r\n#exportF = 1\r\nX\\\r\n?= $\\ b \\\r\n \\\r\n -g \r\n", AddLine Bottom (NewAssign (codes "F") Conditional (codes "x$(a  b)")), NotMade 1 RecipePrefix) ∷  -- further-690
    (codes "#include = x\n#F::=1\nifdef A\nX\\\n=-g\nendif\n%.o c: a\nelse\n\t\ndefine D\nendef\n", ChangeLine None (codes ".RECIPEPREFIX") (edits.InsertWord Before (codes "a") (codes "-lz")), NotTried Reserved) ∷  -- further-691
    (codes ".RECIPEPREFIX = F\nF\\\n?= b \nc:\n\ta a\n#F = a\\\n", AddLine (AfterLastVar (codes "F")) (NewAssign (codes "F") Simple (codes "-g")), NotMade 1 RecipePrefix) ∷  -- further-692
    (codes "\t\nc: a\na:  | b\n# n\n\ta\\\r\n\tb\n#X = 1\n", AddLine (AfterVar None (codes ".RECIPEPREFIX")) (NewAssign (codes "X") Conditional (codes "a")), NotMade 1 Reserved) ∷  -- further-693
    (codes "F := $(t \\\r\n -g)# c\r\nF := -O2\r\n.RECIPEPREFIX = $x\r\nF += a\r\nF += a\r\nc: a\r\n\tsay \"q\"\r\n\tt", EachLine (ChangeEach (codes "F") (edits.Substitute (codes "$(t -g)") (codes " x"))), NotTried RecipePrefix) ∷  -- further-694
    (codes ".RECIPEPREFIX = >\n:: -x_9 != \nF != -g \\\n    -g \\\n$(a b)#\n%.o:\nifdef A\n>x \\ y\n#F = a\n.RECIPEPREFIX = ", ExchangeLines (AtPlace Bottom) (block_lines (codes "\t  cc $$f; \\\nifeq (a,b)\ndefine Q")), NotMade 2 RecipePrefix) ∷  -- further-695
    (codes ".RECIPEPREFIX = >\n\n", ChangeLine None (codes ".RECIPEPREFIX") (edits.Substitute (codes ">") (codes "\\")), NotTried Reserved) ∷  -- further-696
    (codes ".RECIPEPREFIX = F\na:  | a d\nifdef A\n\tc} -s \\\n>y\n# X = \0\n", ChangeLine None [] (edits.InsertWord Before (codes "-g") (codes "-O2")), NotTried (BadArgument field.Name)) ∷  -- further-697
    (codes "X= $(A -g) \\\n-g \\\r\n x=1 |\ta# \\\n d\\\n", ExchangeLines (AtPlace (BeforeRule None (codes "a b"))) (block_lines (codes "ifdef A\nX = 1\nendif")), NotMade 3 (BadArgument field.Place)) ∷  -- further-698
    (codes "F := \r\n", ExchangeLines (AtPlace (BeforeRule (Some 0) (codes "include"))) (block_lines (codes "\tX = 1\n\ttrue")), NotMade 2 Reserved) ∷  -- further-699
    []

answers_14 : map (λ row. account row.0 row.1) rows_14 ≡ map (λ row. row.2) rows_14
answers_14 = refl

abbrev rows_15 : List (List ℕ × Edit × Account)
rows_15 =
    (codes "#override = 1\n\tfor f in x; do \\\nX\\\n::= -g \\\n$\\\n# t = 1\n", AddLine (AfterVar None (codes "override")) (NewAssign (codes "X") Shell (codes "a\\\\")), NotMade 1 (BadArgument field.Value)) ∷  -- further-700
    (codes ".RECIPEPREFIX = F\r\n\tababa aaa\nendif\nendif\nifdef A\nF\\\n+= a $(A -g) | \\\r\n | |\nendif\n# X = \0\ndefine D \\\n e\n  b\nendef\n#X: = 1\n#c \\\n d\\", ChangeLine None (codes ".RECIPEPREFIX") (edits.ReplaceWord (codes "-O2") (codes "$ b")), NotTried Reserved) ∷  -- further-701
    (codes ".RECIPEPREFIX = >\r\n#F::=1\r\n", EachLine (ChangeEach (codes ".RECIPEPREFIX") (edits.Substitute (codes ">") (codes "x=1"))), NotTried Reserved) ∷  -- further-702
    (codes ".RECIPEPREFIX = X\nX = \nX=\nX = \nF !=\\\n| \\\na$\\# \\\n d\ni:  | a d\n\ttrue\n\nifdef A\nX = \n#X = 1\n\ttrue\n.RECIPEPREFIX = >\n", ExchangeLines (AtPlace (AfterRule None (codes "i"))) (block_lines (codes "F = a \\\n  b")), NotMade 1 RecipePrefix) ∷  -- further-703
    (codes "F=a b\nF += a \\\n \\\n a\nX = ababa\n-include b.mk\n\tcc -s x\n", ChangeValue Every [] (edits.SetIf (codes "$(a b) a$ b") []), NotTried (BadArgument field.Name)) ∷  -- further-704
    (codes "#export = 1\nifdef B\nc: a | b\n\ta a\nc:\n\ta\nifdef A\n\tb\nelse\n\ta\nendif\n\nendif\n", AddLine (AfterRule None (codes "c")) (NewAssign (codes "F") PosixSimple (codes "-O2 $ b")), NotMade 1 (Ambiguous 2)) ∷  -- further-705
    (codes "F=-g\\\n\\\n=\\\n ${c}\\\n -O2 a\\ \nF = a b\n#exportF = 1\nc: ;\n\t a\n\t# n\nc: ;\n>rm -rf x\n>\ttrue\n.RECIPEPREFIX = $x\nc d:  | b\n\ttrue\n\tfor f in x; do \\\n\t  cc $$f; \\\n\tdone\n\ttrue\n", EachLine (SubstValues (codes "zz") []), NotTried RecipePrefix) ∷  -- further-706
    (codes "define D\n\tcc -s x\n\ndefine E\nX\nendef\nendef\nF = a \\", ExchangeLines (AtPlace (BeforeVar None (codes "F"))) (block_lines (codes "endef")), NotMade 1 Already) ∷  -- further-707
    (codes "c %.o::\r\n\tt\r\n\t# n\r\nc: a\r\n>>a\r\n>true\r\nendif", AddLine (BeforeVar (Some 4294967295) (codes "$(X)")) (NewRule (codes "c") Single (codes "a")), NotMade 1 (BadArgument field.Place)) ∷  -- further-708
    (codes ".RECIPEPREFIX = X\n\\\n\t\nF = aaa aaaa # aa\ninclude a.mk", AddLine (AfterVar None (codes "F")) (NewAssign (codes "X") Append (codes "$ b")), NotMade 1 RecipePrefix) ∷  -- further-709
    (codes "F ::=b# c\nX?= | ; \\\n    $# \\\n$(w \\\n a)# \\\n d\nd:\nifdef A\n.RECIPEPREFIX = \nF\\\n::= a -g -O2 \n", ChangeLine None (codes "X") (edits.Prepend (codes "$(a b)")), NotTried RecipePrefix) ∷  -- further-710
    (codes "define D\nendef\nF\\\n= -g  b#-g\n.RECIPEPREFIX = $x ", ChangeValue Every (codes "F") (edits.SetIf (codes "-g  b") []), NotTried RecipePrefix) ∷  -- further-711
    (codes "\nc: a\n# n\n\ta\n\nc:\nifdef A\n\ta\n\nndif\n\n\tb\n", AddLine (BeforeRule None (codes "c")) (NewAssign (codes "F") Conditional (codes "-g")), NotMade 1 (Ambiguous 2)) ∷  -- further-712
    (codes " \n\t\\\n$x:: c t\\\n", AddLine (BeforeVar None (codes "$(X)")) (NewAssign (codes "F") Recursive (codes "x$(a  b) a")), NotMade 1 (BadArgument field.Place)) ∷  -- further-713
    (codes "endef\nvpath %.c a\nc d: b x.o b ; true\n\tfor f in x; do \\\n\t  cc $$f; \\\n\tdone\\\n", AddLine (AfterRule None (codes "d")) (NewAssign (codes "F") Conditional (codes "|")), NotMade 1 OpenLine) ∷  -- further-714
    (codes "c: a\nifdef A\n\ta\nendif\n\n\tb\nc:\n# n\ninclude a.mk\ndefine D\nX!= -O2 =\n", ExchangeLines (AtPlace (AfterVar None (codes ".RECIPEPREFIX"))) (block_lines (codes "a:\nifdef A\nendif")), NotMade 3 Reserved) ∷  -- further-715
    (codes " \r\n#\t\t Y !=b\nc d: b& b&\\\n x.o\n\tfor f in x; do \\\n\t  cc $$f; \\\n\tdone\nx.o&: # c\n\t\ttrue\n\ta\nifdef A\n#X = 1\n", ExchangeLines (OfRun None (block_lines (codes "\tfor f in x; do \\\n\t  cc $$f; \\\n\tdone\nx.o&: # c\n\t\ttrue"))) (block_lines (codes "define W\n\tfor f in x; do \\\n\t  cc $$f; \\\n\tdone\nx.o&: # c\n\t\ttrue\nendef")), NotMade 5 Leans) ∷  -- further-716
    (codes "ifdef A\nF::= -O2\\\n-g \\\n    $x#-g\nendif\nc:\n# \\\n n\n#{Y=\n", AddLine (AfterLastVar (codes "F")) (NewAssign (codes "override") Recursive (codes "a$ -include2")), Accepted 1 0 (span 33 33 (codes "override = a$ -include2\n") ∷ []) (Becomes (codes "ifdef A\nF::= -O2\\\n-g \\\n    $x#-g\noverride = a$ -include2\nendif\nc:\n# \\\n n\n#{Y=\n"))) ∷  -- further-717
    (codes "X = x=1 $(a\tb)# \\\n d\n# n\n#X = 1\n-include b.mk\nF= a\ni: b $(w a) x.o\n\tcc -s x\n\tcc -s \\\n>y\ndefine D \\\n e\na: b\na\\b: c\nendef\nc:\n\tb\n\t# n\n\ttrue\\", ExchangeLines (OfRuleRun None (codes "c")) [], Accepted 0 4 (span 120 137 [] ∷ []) (Becomes (codes "X = x=1 $(a\tb)# \\\n d\n# n\n#X = 1\n-include b.mk\nF= a\ni: b $(w a) x.o\n\tcc -s x\n\tcc -s \\\n>y\ndefine D \\\n e\na: b\na\\b: c\nendef\n"))) ∷  -- further-718
    (codes "F != -g b \\\r\r\n |#-g\nd::\nifdef B\nc: a\n# n\n\ta\nendif\nc::\n\ta a\nF = a\nc::\n\ta\nifdef A\n\tb\nelse\n\ta\nendif\n\nifdef A\nX ?= # \\\n d\nendif\n#Y=\n", ExchangeLines (AtPlace (AfterRule None (codes "d"))) (block_lines (codes "d::\nifdef B\nc: a")), NotMade 3 Already) ∷  -- further-719
    (codes "#X ?= $(x) # n\nF += b -g ", SwitchLine CommentOut None (codes "F"), Accepted 1 1 (span 15 15 (codes "#") ∷ []) (Becomes (codes "#X ?= $(x) # n\n#F += b -g "))) ∷  -- further-720
    (codes ".RECIPEPREFIX = >\ni: b& | b\nF += -g $(a b)\\\n-O2\nF = -g $(a b)\\\n-O2\n#X = a\\\\ \\\n b\na: a\\\n x.o\nifdef A", EachLine (ChangeEach (codes "F") (edits.Substitute (codes "$(a b)") (codes "\\\\"))), NotMade 2 Misread) ∷  -- further-721
    (codes ".RECIPEPREFIX = >\r\ndefine D \\\n e\n# n\nendef\nF= a a$ \n# F is on\noverride F ::= -g -g\\\n -O2\n", ChangeLine (Some 1) (codes "F") (edits.InsertWord After (codes "a") (codes "-O2")), Accepted 1 1 (span 47 47 (codes " -O2") ∷ []) (Becomes (codes ".RECIPEPREFIX = >\r\ndefine D \\\n e\n# n\nendef\nF= a -O2 a$ \n# F is on\noverride F ::= -g -g\\\n -O2\n"))) ∷  -- further-722
    (codes "#X = a\\\\ \\\r\n b\r\nc:: # c\r\n\tsay \"q\"\r\n\t a\r\n\t\ttrue\r\n#>X = 1\r\n", ExchangeLines (OfRun (Some 4294967295) (block_lines (codes "\tsay \"q\""))) [], NotMade 0 NoSuch) ∷  -- further-723
    (codes "$x ::private\tX$: != \t-include2b\\\n\\\n| \nF = \nF += a b\nF=a b\nifdef A\nexport X ?= a  -g# \\\n d\nendif\n## F = 1\n", ExchangeLines (AtPlace (AfterLastVar (codes "Q"))) (block_lines (codes "ifdef B\nifdef C\nendif\nendif")), NotMade 4 NoSuch) ∷  -- further-724
    (codes "c: x.o\n\tcc -s x\n\ttrue\n\tdone\nc: a | b\nifdef A\n\ta\nendif\n\n\tb\nF = a\nc: a | b\n# n\n\ta\na: b a | b\n\tcc -s y; cc -s z\nexport F\\\n!= -g \\\n    a b  a# a \\\\\n", EachLine (SubstValues (codes "a") []), NotMade 2 Misread) ∷  -- further-725
    (codes ".RECIPEPREFIX = >\r\n# override \\\n X = 1\n", ChangeValue Every (codes "F") (edits.SetIf (codes "$\\x b") (codes "$(w a)")), NotTried NoSuch) ∷  -- further-726
    (codes "ifdef B\nc::\n\ta\nifdef A\n\tb\nX = 1\nendif\n\nc: a | b\n\ta\nifdef A\n\tb\nX = 1\nendif\nF = a\nendif\n#export = 1\noverride ?= x=1 x=1 -g ", ChangeLine None (codes "override") (edits.ReplaceWord (codes "b") (codes "-g")), NotTried Absent) ∷  -- further-727
    (codes "c:t foo # \\\r\n", AddLine (BeforeVar (Some 0) (codes "F")) (NewAssign (codes "F") Simple (codes "a")), NotMade 1 NoSuch) ∷  -- further-728
    (codes "c:\nc::\n\ta a\n#\t\t Y !=b\n\tcc -s x\na: b\nifdef A\nX = \\\n# c\nendif\nexport a.b ?= $$\\\n a -O2 a$   a# a \\\\", ExchangeLines (OfRuleRun (Some 1) (codes "c")) (block_lines (codes "endef\ndefine D")), NotMade 2 Misread) ∷  -- further-729
    (codes "d&: ; true\n\tx \\ y\n\ta \\\n\tb\n\t\n \n", AddLine (AfterRule None (codes "d")) (NewRule (codes "c") Double (codes "a")), Accepted 1 0 (span 28 28 (codes "c:: a\n") ∷ []) (Becomes (codes "d&: ; true\n\tx \\ y\n\ta \\\n\tb\n\t\nc:: a\n \n"))) ∷  -- further-730
    (codes "c: ; true\r\n\t# n\r\n\tt\r\ndefine D\r\nX = ababa\r\nendef\r\nX = a b\r\nX += -g\\\r\n\tb a\r\n", EachLine (SubstRecipes (codes "n") (codes "aa")), Accepted 1 1 (span 14 15 (codes "aa") ∷ []) (Becomes (codes "c: ; true\r\n\t# aa\r\n\tt\r\ndefine D\r\nX = ababa\r\nendef\r\nX = a b\r\nX += -g\\\r\n\tb a\r\n"))) ∷  -- further-731
    (codes "#\tX := 1\nc: # c\nelse\n\ttrue\n\tifdef Q\n", EachLine (SubstRecipes (codes "cc") (codes "/usr")), NotTried Absent) ∷  -- further-732
    (codes "override\\\n:= -g ", SwitchLine CommentOut None (codes "override"), Accepted 1 1 (span 0 0 (codes "#") ∷ []) (Becomes (codes "#override\\\n:= -g "))) ∷  -- further-733
    (codes "override\\\n?=$(a\tb)\\\n$$\\\n= -g\\\n\tb# \\\n d\n# F is on\nifdef A\nF !=| x=1# c\nelse\nF:= \\\r\n a\\$\tb -g\\\n\\\n${c}\\\n\tb\nendif\n#override\texport X := b\nF=a b\nF = a b\nexport X = ", ExchangeLines (BeforeRun None (block_lines (codes "F = a \\\n  b"))) (block_lines (codes "define D\nx\nendef")), NotMade 3 NoSuch) ∷  -- further-734
    (codes ".RECIPEPREFIX = >\nifdef B\nc: a\n\ta\nifdef A\n\tb\nelse\n\ta\nendif\n\nendif\nd: a | b\n\t\ttrue\nF\\\n= a \\\r\n a:b\tb\n", ExchangeLines (OfRuleRun None (codes "c")) (block_lines (codes "-include b.mk\n ")), Accepted 2 1 (span 26 31 (codes "-include b.mk\n \n") ∷ []) (Becomes (codes ".RECIPEPREFIX = >\nifdef B\n-include b.mk\n \n\ta\nifdef A\n\tb\nelse\n\ta\nendif\n\nendif\nd: a | b\n\t\ttrue\nF\\\n= a \\\r\n a:b\tb\n"))) ∷  -- further-735
    (codes "# override \\\n X = 1\\", AddLine (AfterLastVar (codes "X")) (NewRule (codes "c") Double (codes "a")), NotMade 1 NoSuch) ∷  -- further-736
    (codes "ifdef A\r\noverride X= $  -g a -O2\\\r\n\\\r\n-g \r\nendif\r\nd c: a\r\n>a\r\n# \\\r\n n\r\n>a # b\r\n>rm -rf x\r\nF = a b\r\nF=a b\r\nF += a\r\nX = 1\r\nF += a\r\na: a b x.o | b\r\n\ta\\\r\n\tb\r\n\tcc -s x\r\n#exportF = 1\r\n", EachLine (SubstValues [] (codes "yy")), NotTried (BadArgument field.From)) ∷  -- further-737
    (codes "F = a\\ \t=\nc&:\n>rm -rf x\n>x \\ y\n>true", ExchangeLines (OfRun None (block_lines (codes ">rm -rf x\n>x \\ y"))) [], Accepted 0 2 (span 14 31 [] ∷ []) (Becomes (codes "F = a\\ \t=\nc&:\n>true"))) ∷  -- further-738
    (codes "ifdef A\nF :=\\\n\tx=1 ; \\\n    ; $## \\\n d\nendif\nX:= \nc d: $(w a) a b&\n\tcc -s \\\n>y\nexport F ?=$x \\\n-g b#-g\na: b x.o | a d\n", ExchangeLines (AtPlace (AfterLastVar (codes "F"))) (block_lines (codes "#X = 1")), Accepted 1 0 (span 102 102 (codes "#X = 1\n") ∷ []) (Becomes (codes "ifdef A\nF :=\\\n\tx=1 ; \\\n    ; $## \\\n d\nendif\nX:= \nc d: $(w a) a b&\n\tcc -s \\\n>y\nexport F ?=$x \\\n-g b#-g\n#X = 1\na: b x.o | a d\n"))) ∷  -- further-739
    (codes "vpath %.c a\n#X = 1\nF = a \\\nc: a | b\nifdef A\n\ta\nendif\nc: a\n\ta a\n\nc&: ;\na: $(w a) $(w a) x.o | b\n\tfor f in x; do \\\n\t  cc $$f; \\\n\tdone\n\tcc -s y; cc -s z\n\tcc -s x\n", ChangePrereqs (Some 2) (codes "c") (ReplacePrereq (codes "e$#f") (codes "$(q:;=|)")), NotTried Absent) ∷  -- further-740
    (codes "c c&: a | b\nc: $(w a) ; true\n\tfor f in x; do \\\n\t  cc $$f; \\\n\tdone\noverride = -g\noverride += -g\noverride = -g\\\n", SwitchLine CommentOut None (codes "F"), NotTried NoSuch) ∷  -- further-741
    (codes "c: a\r\nifdef A\r\n\ta\r\nendif\r\nF = a\r\nc: a\r\nifdef A\r\n\ta\r\nendif\r\n\r\n\tb\r\nifdef A\r\nF::= \r\nendif\r\ndefine D\r\nendef\r\noverride define X =\r\nX = 1\r\nendef\r\nc: a | b\r\n\tt\r\n\tsay \"q\"\r\n\tifdef Q\r\n\ttrue\r\n#X: = 1\r\n", AddLine Bottom (NewRule (codes "d") Single (codes "a b")), Accepted 1 0 (span 190 190 (codes "d: a b\r\n") ∷ []) (Becomes (codes "c: a\r\nifdef A\r\n\ta\r\nendif\r\nF = a\r\nc: a\r\nifdef A\r\n\ta\r\nendif\r\n\r\n\tb\r\nifdef A\r\nF::= \r\nendif\r\ndefine D\r\nendef\r\noverride define X =\r\nX = 1\r\nendef\r\nc: a | b\r\n\tt\r\n\tsay \"q\"\r\n\tifdef Q\r\n\ttrue\r\n#X: = 1\r\nd: a b\r\n"))) ∷  -- further-742
    (codes ".RECIPEPREFIX = >\nX\\\n= \\\n    -g \n\ttrue\nc d: $(w a) b x.o | b\n\n", ChangeLine None (codes "X") (edits.Substitute (codes "-g") (codes "x")), Accepted 1 1 (span 29 31 (codes "x") ∷ []) (Becomes (codes ".RECIPEPREFIX = >\nX\\\n= \\\n    x \n\ttrue\nc d: $(w a) b x.o | b\n\n"))) ∷  -- further-743
    (codes "define D\nF += a\n\n\tababa aaa\r", AddLine (BeforeRule None (codes "c")) (NewAssign (codes "F") Append []), NotMade 1 NoSuch) ∷  -- further-744
    (codes "F=a\nF += a\nF = ; a\\  b \\\na:b -g\nF\\\n=\n", ChangeLine (Some 4) (codes "F") (edits.Prepend (codes "\t")), NotTried (BadArgument field.Value)) ∷  -- further-745
    (codes "F?=$ a\\\\\t$x \nc: a\n\ta\nifdef A\n\tb\nelse\n\ta\nendif\n\nF = a\nc: a\nifdef A\n\ta\nendif\n", ChangeLine None (codes "X") (edits.Prepend (codes "-g")), NotTried NoSuch) ∷  -- further-746
    (codes ".RECIPEPREFIX = >\noverride:=-g Ã© a:b\na.b += a\na.b=-g\\\n\tb -O2 a\\\\\n\t \n#F = a\nc\t$x : private  A::= %.o\\\r\n\r#\nvpath %.c a\ndefine D\n-include b.mk", ExchangeLines (OfRun None (block_lines (codes "\t "))) [], Accepted 0 1 (span 66 69 [] ∷ []) (Becomes (codes ".RECIPEPREFIX = >\noverride:=-g Ã© a:b\na.b += a\na.b=-g\\\n\tb -O2 a\\\\\n#F = a\nc\t$x : private  A::= %.o\\\r\n\r#\nvpath %.c a\ndefine D\n-include b.mk"))) ∷  -- further-747
    (codes "a: b& $(w a) | b\n\n", ExchangeLines (BeforeRun (Some 1) (block_lines (codes "a: b& $(w a) | b"))) (block_lines []), Accepted 1 0 (span 0 0 (codes "\n") ∷ []) (Becomes (codes "\na: b& $(w a) | b\n\n"))) ∷  -- further-748
    (codes "#include = x\n# private Y=c\nF+= -g $\\ -g\n", ExchangeLines (OfRuleRun None []) (block_lines (codes "-include b.mk\ninclude a.mk")), NotMade 2 (BadArgument field.Target)) ∷  -- further-749
    []

answers_15 : map (λ row. account row.0 row.1) rows_15 ≡ map (λ row. row.2) rows_15
answers_15 = refl

abbrev rows_16 : List (List ℕ × Edit × Account)
rows_16 =
    (codes "F\\\n+=-g | $(s (b) a) a#\na: b\nelse\ninclude a.mk\r", SwitchLine CommentOut None (codes "F"), Accepted 1 1 (span 0 0 (codes "#") ∷ []) (Becomes (codes "#F\\\n+=-g | $(s (b) a) a#\na: b\nelse\ninclude a.mk\r"))) ∷  -- further-750
    (codes "F = a \\\nF += a\nc d: a ; true\nendif", ChangeLine None (codes "F") (edits.InsertWord Before (codes "a") (codes "F")), NotTried Already) ∷  -- further-751
    (codes "a\\b: c\nifdef A\nF\\\n!= a\\\n =\nc d: b | b\nF= =# \\\n d\nifdef A\nF\\\n+= b -g\nendif\n", ChangeLine (Some 1) (codes "F") (edits.SetOperator Append), Accepted 1 1 (span 18 20 (codes "+=") ∷ []) (Becomes (codes "a\\b: c\nifdef A\nF\\\n+= a\\\n =\nc d: b | b\nF= =# \\\n d\nifdef A\nF\\\n+= b -g\nendif\n"))) ∷  -- further-752
    (codes "\tfor f in x; do \\\n  b\nx.o d: # c\n\ty\r\n\ta\n \nX+= b a \\\n-O2  -g\noverride := -g $# ;\\\n$(A -g) \ndefine D \\\n e\ndefine E\nX\nendef\nendef\n", ExchangeLines (OfRun None (block_lines (codes "define E\nX"))) [], NotMade 0 Misread) ∷  -- further-753
    (codes "#X = a\\\\ \\\n b\nc: b b& $(w a)\\\n x.o\nc: a\n\ta\nifdef A\n\tb\nX = 1\nendif\n\nc:\n\ta\nifdef A\n\tb\nX = 1\nendif\n\n", ExchangeLines (AfterRun None (block_lines (codes "x \\\\\\"))) (block_lines (codes "X = 1\n")), NotMade 2 (BadArgument field.Place)) ∷  -- further-754
    (codes "F::= -g# a \\\\\noverride=  \n  b\n", ExchangeLines (OfRun None (block_lines (codes "F::= -g# a \\\\\noverride=  \n  b"))) (block_lines (codes "x \\\n")), Accepted 1 3 (span 0 30 (codes "x \\\n\n") ∷ []) (Becomes (codes "x \\\n\n"))) ∷  -- further-755
    (codes "d&:\r\n\tb\r\n\t# n\r\nF= b\t-O2 a  a\\$# c\r\n#X = r\\\r\n s\r\nX\\\r\n+= \\\r\n    = -O2\\\r\n\t|\r\n", ChangeLine (Some 2) (codes "F") (edits.SetOperator Shell), NotTried NoSuch) ∷  -- further-756
    (codes "\nX = 1", EachLine (SubstValues (codes "1") []), Accepted 1 1 (span 5 6 [] ∷ []) (Becomes (codes "\nX = "))) ∷  -- further-757
    (codes "c: a\nc:\nifdef A\n\ta\nendif\n\n\tb\nF = a\nc: a | b\n\ta\nifdef A\n\tb\nelse\n\ta\nendif\n\n\nc:\n\ta\ni{def A\n\tb\nelse\n\ta\nendif\n\n\nc::\nc: a\n\ta\nifdef A\n\tb\nX = 1\nendif\nc: a | b\nifdef A\n\ta\nendif\n\n\tb\n\nF=b -O2\\\n\\\nb \n", ExchangeLines (OfRuleRun (Some 1) (codes "c")) (block_lines (codes "c:\nifdef A\n\ta\nendif\n\n\tb\nF = aaa aaaa # aa")), Accepted 7 1 (span 0 5 (codes "c:\nifdef A\n\ta\nendif\n\n\tb\nF = aaa aaaa # aa\n") ∷ []) (Becomes (codes "c:\nifdef A\n\ta\nendif\n\n\tb\nF = aaa aaaa # aa\nc:\nifdef A\n\ta\nendif\n\n\tb\nF = a\nc: a | b\n\ta\nifdef A\n\tb\nelse\n\ta\nendif\n\n\nc:\n\ta\ni{def A\n\tb\nelse\n\ta\nendif\n\n\nc::\nc: a\n\ta\nifdef A\n\tb\nX = 1\nendif\nc: a | b\nifdef A\n\ta\nendif\n\n\tb\n\nF=b -O2\\\n\\\nb \n"))) ∷  -- further-758
    (codes "X== a # a \\\\\na.b\\\n= a a \\\r\n -g\ndefine D \\\n e\n\tdone\n\ttrue\n\tdone\nendef\n", ChangeLine None (codes "a.b") (edits.SetOperator Immediate), Accepted 1 1 (span 18 19 (codes ":::=") ∷ []) (Becomes (codes "X== a # a \\\\\na.b\\\n:::= a a \\\r\n -g\ndefine D \\\n e\n\tdone\n\ttrue\n\tdone\nendef\n"))) ∷  -- further-759
    (codes "X ::= = a$\\\\\n\ta \nifdef A\nX:= # c\nendif\nc: a\nF = aaa aaaa # aa\nifdef A\ni: x.o\\\n x.o\n\tcc -s \\\n>y\nendif\nc: # c\n$(q:;=|)&: $(q:;=|)\tb c\\", ChangeValue Every (codes "F") (edits.SetIf (codes "aaa aaaa") (codes "$")), NotTried (BadArgument field.Value)) ∷  -- further-760
    (codes "F := a:b \\\nb ${v a -g\n\nifdef A", EachLine (ChangeEach (codes "F") (edits.SetOperator Append)), Accepted 1 1 (span 2 4 (codes "+=") ∷ []) (Becomes (codes "F += a:b \\\nb ${v a -g\n\nifdef A"))) ∷  -- further-761
    (codes "c c: a\n>a\n>x \\ y\n", ChangePrereqs None (codes "c") (ReplacePrereq (codes "a") (codes "a&b")), Accepted 1 1 (span 5 6 (codes "a&b") ∷ []) (Becomes (codes "c c: a&b\n>a\n>x \\ y\n"))) ∷  -- further-762
    (codes ".RECIPEPREFIX = X\nc::\n\ta a\nF = a\nc:\nifdef A\n\ta\nendif\n\n\tb\nF=  ", ExchangeLines (OfRuleRun (Some 1) (codes "c")) (block_lines (codes "X = 1\nvpath %.c a")), Accepted 2 1 (span 18 22 (codes "X = 1\nvpath %.c a\n") ∷ []) (Becomes (codes ".RECIPEPREFIX = X\nX = 1\nvpath %.c a\n\ta a\nF = a\nc:\nifdef A\n\ta\nendif\n\n\tb\nF=  "))) ∷  -- further-763
    (codes "# export F = a\r\nF\\\r\n=\ta\\  \\\r\n-g # \\\r\n d\r\n\\\r\n#c \\\r\n d\r\noverride= a\\\r\n\t| =\\\r\n\t$# $\\\r\n \r\nc: a | b\r\n\ta\r\nifdef A\r\n\tb\r\nelse\r\n\ta\r\nendif\r\n\r\n", AddLine Top (NewRule (codes "c") Double (codes "a")), Accepted 1 0 (span 0 0 (codes "c:: a\r\n") ∷ []) (Becomes (codes "c:: a\r\n# export F = a\r\nF\\\r\n=\ta\\  \\\r\n-g # \\\r\n d\r\n\\\r\n#c \\\r\n d\r\noverride= a\\\r\n\t| =\\\r\n\t$# $\\\r\n \r\nc: a | b\r\n\ta\r\nifdef A\r\n\tb\r\nelse\r\n\ta\r\nendif\r\n\r\n"))) ∷  -- further-764
    (codes "F?= $\\\ta -g\nc:\nc::\n\ta\nifdef A\n\tb\nX = 1\nendif", ChangeLine None (codes "F") (edits.SetOperator Recursive), Accepted 1 1 (span 1 3 (codes "=") ∷ []) (Becomes (codes "F= $\\\ta -g\nc:\nc::\n\ta\nifdef A\n\tb\nX = 1\nendif"))) ∷  -- further-765
    (codes "c: \r\nc:\n# n\n\ta\na.b != -g \\\\\\\\ \\\n    a -g\\\n a \\\n    #-g\nc: a\noverride a.b = a#\n# \\\n n\n>rm -rf x\n>\nX\\\n= \\ -O2# a \\\\\ninclude a.mk\nF += a", ChangeValue (One (Some 1)) (codes "F") (edits.SetIf (codes "a") (codes "a  b")), Accepted 1 1 (span 132 133 (codes "a  b") ∷ []) (Becomes (codes "c: \r\nc:\n# n\n\ta\na.b != -g \\\\\\\\ \\\n    a -g\\\n a \\\n    #-g\nc: a\noverride a.b = a#\n# \\\n n\n>rm -rf x\n>\nX\\\n= \\ -O2# a \\\\\ninclude a.mk\nF += a  b"))) ∷  -- further-766
    (codes "X\\\n= -g a#-g\nX != -g -g b \\\nb\nX ::= $(a b)  a:b #-g\n", ChangeValue Every (codes "X") (edits.SetIf (codes "$(a b)  a:b") (codes "$(s (b) a)")), Accepted 1 1 (span 36 47 (codes "$(s (b) a)") ∷ []) (Becomes (codes "X\\\n= -g a#-g\nX != -g -g b \\\nb\nX ::= $(s (b) a) #-g\n"))) ∷  -- further-767
    (codes "#X = r\\\r\n s\r\nc: b& b&\r\n\tcc -s x\r\nendif\r\n\r\n", ExchangeLines (OfRuleRun None (codes "c")) [], Accepted 0 2 (span 13 33 [] ∷ []) (Becomes (codes "#X = r\\\r\n s\r\nendif\r\n\r\n"))) ∷  -- further-768
    (codes "c: $(w a) | b\n# n\nX\\\n::= \\\n; a$\\\t\nd: # c\n>say \"q\"\n>rm -rf x\n# n\n#F = a\n", ChangePrereqs None (codes "c") (ReplacePrereq (codes "$(w a)") (codes "Ã©")), Accepted 1 1 (span 3 9 (codes "Ã©") ∷ []) (Becomes (codes "c: Ã© | b\n# n\nX\\\n::= \\\n; a$\\\t\nd: # c\n>say \"q\"\n>rm -rf x\n# n\n#F = a\n"))) ∷  -- further-769
    (codes "i:  | a d\n\ta\\\r\n\tb\nendif\n\tcc -s y; cc -s z\n", ExchangeLines (OfRuleRun (Some 1) (codes "i")) (block_lines (codes "i:  | a d\n\ta\\")), NotMade 2 (BadArgument field.Block)) ∷  -- further-770
    (codes "define D\na.b ?=b #-g\n", ChangeLine None (codes "F") (edits.InsertWord After (codes "-g") (codes "x.c")), NotTried NoSuch) ∷  -- further-771
    (codes "c d: \\\n x.o\n#override = 1\n\ttrue\nF += a ", AddLine Bottom (NewAssign (codes "F") Conditional (codes "$x")), Accepted 1 0 (span 39 39 (codes "\nF ?= $x\n") ∷ []) (Becomes (codes "c d: \\\n x.o\n#override = 1\n\ttrue\nF += a \nF ?= $x\n"))) ∷  -- further-772
    (codes "F\\\n::=b\\\nb a -O2\n#F = a\\", ExchangeLines (OfRun None (block_lines (codes "F\\\n::=b\\\nb a -O2"))) [], Accepted 0 1 (span 0 17 [] ∷ []) (Becomes (codes "#F = a\\"))) ∷  -- further-773
    (codes "ifdef A\ninclude: a | b\nF = a\\\n\\# \\\r\n -g\t$# a ", ChangePrereqs None (codes "include") (ReplacePrereq (codes "a") (codes "$x")), NotTried Reserved) ∷  -- further-774
    (codes "inclue a\rmk\nendif\n# n\nc: # c\n\t a\n", EachLine (SubstRecipes (codes "a") (codes "}")), Accepted 1 1 (span 31 32 (codes "}") ∷ []) (Becomes (codes "inclue a\rmk\nendif\n# n\nc: # c\n\t }\n"))) ∷  -- further-775
    (codes "#F::=1\nifdef A\nF\\\n= b\\\n $(A -g) \nendif\nc d: a b& a | a d", ChangeValue (One None) (codes "F") (edits.SetIf (codes "b $(A -g)") (codes "a")), Accepted 1 1 (span 20 31 (codes "a") ∷ []) (Becomes (codes "#F::=1\nifdef A\nF\\\n= a \nendif\nc d: a b& a | a d"))) ∷  -- further-776
    (codes ".RECIPEPREFIX = X\n#X = a\\\\ \\\n b\n", ChangeLine (Some 0) (codes "X") (edits.Substitute (codes "cc") (codes " ")), NotTried NoSuch) ∷  -- further-777
    (codes "i: $(w a) x.o b\\\n x.o\n# n\nc: a | b\nc d:  | b\nexport F ?= $\\\n a\t-g# c\nifdef B\nc::\n\ta\nifdef A\n\tb\nX = 1\nendif\n\nelse\n\tx\nendif\noverride define X =\n# n\nendef\n", AddLine (AfterRule (Some 1) (codes "c")) (NewAssign (codes "F") Immediate (codes "a:b")), Accepted 1 0 (span 35 35 (codes "F :::= a:b\n") ∷ []) (Becomes (codes "i: $(w a) x.o b\\\n x.o\n# n\nc: a | b\nF :::= a:b\nc d:  | b\nexport F ?= $\\\n a\t-g# c\nifdef B\nc::\n\ta\nifdef A\n\tb\nX = 1\nendif\n\nelse\n\tx\nendif\noverride define X =\n# n\nendef\n"))) ∷  -- further-778
    (codes "define D\r\nF = aaa aaaa # aa\r\nendef\r\n# F=-g b\r\nc d: b | a d\r\nX = 1", ExchangeLines (OfRuleRun (Some 4294967295) (codes "d")) [], NotMade 0 NoSuch) ∷  -- further-779
    (codes "# X = \0\r\ndefine D \\\r\n e\r\nX = 1\r\na\\b: c\r\nendef\r\n# n\r\nX = -g b # \\\r\n d\r\na\\b: c\r\nF\\\r\n+= \\\r\n$$ b\t$(A -g)\\\r\n\t-g\r\n", ChangeLine None [] (edits.SetOperator Conditional), NotTried (BadArgument field.Name)) ∷  -- further-780
    (codes ".RECIPEPREFIX = >\n\\\n\t\nc: \\\n x.o", ChangeLine None [] (edits.ReplaceWord (codes "$\\x") (codes "b x$(a  b)")), NotTried (BadArgument field.Name)) ∷  -- further-781
    (codes "F =\ta# \\\n d\nd&:\n\ta # b\nifeq (a,b)\nifdef A\nF = $(u =  a\\\n b #\nendif\n# X = \0\ni: b b&\n\n#override\texport X := b\n", ChangeLine (Some 1) (codes "F") (edits.InsertWord Before (codes "a") (codes "x.c")), Accepted 1 1 (span 4 4 (codes "x.c ") ∷ []) (Becomes (codes "F =\tx.c a# \\\n d\nd&:\n\ta # b\nifeq (a,b)\nifdef A\nF = $(u =  a\\\n b #\nendif\n# X = \0\ni: b b&\n\n#override\texport X := b\n"))) ∷  -- further-782
    (codes "F ::= # \\\n d\ni: a ; true\nifdef A\n\ni: b& | b\nifdef A\n\nX\\\n= $(w \\\n a)\n", ChangeValue (One None) (codes "X") (edits.SetIf (codes "$(w a)") (codes ";")), Accepted 1 1 (span 58 67 (codes ";") ∷ []) (Becomes (codes "F ::= # \\\n d\ni: a ; true\nifdef A\n\ni: b& | b\nifdef A\n\nX\\\n= ;\n"))) ∷  -- further-783
    (codes "c: a b | b\r\n\tcc -s x\nendif\n\ta\\\r\n\tb\n#>X = 1\nF\\\n= -g\noverride override ::= -g  -g\\\n\t-g $ ", EachLine (SubstRecipes (codes "cc") []), Accepted 1 1 (span 13 15 [] ∷ []) (Becomes (codes "c: a b | b\r\n\t -s x\nendif\n\ta\\\r\n\tb\n#>X = 1\nF\\\n= -g\noverride override ::= -g  -g\\\n\t-g $ "))) ∷  -- further-784
    (codes "a: a b b\n\tfor f in x; do \\\n\t  cc $$f; \\\n\tdone\n\ttrue\n\t\\\n\\\n\r(\r)endef |\n", ChangePrereqs None (codes "a") (ReplacePrereq (codes "a") (codes "${c}")), Accepted 1 1 (span 3 4 (codes "${c}") ∷ []) (Becomes (codes "a: ${c} b b\n\tfor f in x; do \\\n\t  cc $$f; \\\n\tdone\n\ttrue\n\t\\\n\\\n\r(\r)endef |\n"))) ∷  -- further-785
    (codes "ifdef A\na.b = -O2 ${c}\\\n a \nelse\noverride a.b ?= a a:b#-g\nendif\nX = -O2 -g\nX=-O2 -g\n", ChangeLine None (codes "override") (edits.InsertWord Before (codes "$\\x") (codes "-lz")), NotTried NoSuch) ∷  -- further-786
    (codes "$$: %.c :\t$(q:;=|)  x.o b  \nc d: b&\\\n x.o\n\ttrue\n\tfor f in x; do \\\n\t  cc $$f; \\\n\tdone\n\nX = $(a b) \\\n \\\n a# c\ndefine D\ndefine E\nX\nendef\nendef\n$(a b) $$ &:define?=$$ \n", ExchangeLines (AtPlace (AfterRule (Some 2) (codes "$$"))) (block_lines (codes " \nX = ababa\ninclude a.mk")), NotMade 3 NoSuch) ∷  -- further-787
    (codes "F\\\n= ${v a\nF:= -g \\\\\n", ChangeLine (Some 2) (codes "F") (edits.InsertWord After (codes "-g") (codes "$(new a)")), Accepted 1 1 (span 17 17 (codes " $(new a)") ∷ []) (Becomes (codes "F\\\n= ${v a\nF:= -g $(new a) \\\\\n"))) ∷  -- further-788
    (codes ".RECIPEPREFIX = X\nX := = \\\n \\\n b \\\r\n -O2 a:b -g \nc: a\nX = 1\n \n", ChangeLine None (codes "X") (edits.Substitute (codes " a:b -g") []), Accepted 1 1 (span 40 47 [] ∷ []) (Becomes (codes ".RECIPEPREFIX = X\nX := = \\\n \\\n b \\\r\n -O2 \nc: a\nX = 1\n \n"))) ∷  -- further-789
    (codes ".RECIPEPREFIX = t\r\nifdef B\r\nc: a | b\r\nifdef A\r\n\ta\r\nendif\r\n\r\nendif\r\n", EachLine (SubstValues (codes "t") []), NotTried Absent) ∷  -- further-790
    (codes "# X = \0\r\nc d: b& b& b | b\r\n\tcc -s \\\r\n>y\r\na.b?= a \\\r\na \\\r\n    -O2\r\nd&: ; true\r\n\ta # b\r\n\t\r\n\t>a\r\nF ::= \\\r\n    \\ b\r\n$(call t,x)\r\nvpath %.c a\r\ndefine D\r\nendef\r", AddLine (AfterLastVar (codes "a.b")) (NewRule (codes "%.o") Double (codes "a b")), Accepted 1 0 (span 66 66 (codes "%.o:: a b\r\n") ∷ []) (Becomes (codes "# X = \0\r\nc d: b& b& b | b\r\n\tcc -s \\\r\n>y\r\na.b?= a \\\r\na \\\r\n    -O2\r\n%.o:: a b\r\nd&: ; true\r\n\ta # b\r\n\t\r\n\t>a\r\nF ::= \\\r\n    \\ b\r\n$(call t,x)\r\nvpath %.c a\r\ndefine D\r\nendef\r"))) ∷  -- further-791
    (codes "d c:\r\nifdef A\n # n\nc: # c\n\ttrue\n\ta\n\ttrue\nifeq (a,b)\n# override \\\n X = 1\nc d: b& a\n\ta\\\r\n\tb\n\ta\\\r\n\tb\n\ttrue\n", ExchangeLines (OfRuleRun None (codes "c")) (block_lines (codes "c:\n\ta \\\n\tb")), NotMade 2 (Ambiguous 3)) ∷  -- further-792
    (codes "F +=-g \\\n \\\n a$\\ b# c\n-include2 \t$(u : \\\n  a $(p #) \nF+=-g\t-g", AddLine Top (NewAssign (codes "F") Simple (codes "$(a b) a$ b")), Accepted 1 0 (span 0 0 (codes "F := $(a b) a$ b\n") ∷ []) (Becomes (codes "F := $(a b) a$ b\nF +=-g \\\n \\\n a$\\ b# c\n-include2 \t$(u : \\\n  a $(p #) \nF+=-g\t-g"))) ∷  -- further-793
    (codes "i: $(w a)\n\n\tcc -s x\noverride F= x=1\\\n\tx=1\t$(a\tb)\n", ExchangeLines (BeforeRun None (block_lines (codes "override F= x=1\\\n\tx=1\t$(a\tb)"))) (block_lines (codes "\tcc -s x\noverride F= x=1\\\n\tx=1\t$(a\tb)")), NotMade 2 Already) ∷  -- further-794
    (codes "F =  \r\nc:  ; true\r\nifdef A\r\n\ta\\\r\n\tb\r\n# n\r\na: $(w a)\r\n", ExchangeLines (AtPlace (AfterVar (Some 1) (codes "F"))) (block_lines (codes "-include b.mk")), Accepted 1 0 (span 7 7 (codes "-include b.mk\r\n") ∷ []) (Becomes (codes "F =  \r\n-include b.mk\r\nc:  ; true\r\nifdef A\r\n\ta\\\r\n\tb\r\n# n\r\na: $(w a)\r\n"))) ∷  -- further-795
    (codes "override\\\r\n:= -g \\\n \\\n $(a\tb)\\\n$(s (b) a) a:b\nF =a \nd: ;\n\ta\nX == a\na.b =\\\nx=1 a$ ", EachLine (SubstRecipe (Some 1) (codes "d") (codes "a") []), Accepted 1 1 (span 58 59 [] ∷ []) (Becomes (codes "override\\\r\n:= -g \\\n \\\n $(a\tb)\\\n$(s (b) a) a:b\nF =a \nd: ;\n\t\nX == a\na.b =\\\nx=1 a$ "))) ∷  -- further-796
    (codes ".RECIPEPREFIX = >\r\nF += b \\\n \\\n ; b $x $\\\nc d: \n\n\tcc -s \\\n>y\nc: ; true\n\tsay \"q\"\n\trm -f x", ExchangeLines (AtPlace Bottom) (block_lines (codes "endif\nifdef B")), NotMade 2 Misread) ∷  -- further-797
    (codes ".RECIPEPREFIX = \n \\\n\ndefine D \\\n e\nF += a\nendef\n#export = 1\nX = 1\n# n\nF:= a\\\\# \\\n d", ChangeLine None (codes "F") (edits.Prepend (codes "x=1")), Accepted 1 1 (span 74 74 (codes "x=1 ") ∷ []) (Becomes (codes ".RECIPEPREFIX = \n \\\n\ndefine D \\\n e\nF += a\nendef\n#export = 1\nX = 1\n# n\nF:= x=1 a\\\\# \\\n d"))) ∷  -- further-798
    (codes "F := | ;\t|\nifdef A\na.b\\\n+= $\\\n \nendif", ChangeLine None (codes "F") (edits.InsertWord Before (codes ";") (codes "$(new a)")), Accepted 1 1 (span 7 7 (codes "$(new a) ") ∷ []) (Becomes (codes "F := | $(new a) ;\t|\nifdef A\na.b\\\n+= $\\\n \nendif"))) ∷  -- further-799
    []

answers_16 : map (λ row. account row.0 row.1) rows_16 ≡ map (λ row. row.2) rows_16
answers_16 = refl

abbrev rows_17 : List (List ℕ × Edit × Account)
rows_17 =
    (codes "override F =$(u \r\n\t  cc $$f; \\\r\nF = a \\\r\n\r\n", EachLine (SubstValues (codes " ") (codes "yy")), Accepted 1 1 (span 15 16 (codes "yy") ∷ []) (Becomes (codes "override F =$(uyy\r\n\t  cc $$f; \\\r\nF = a \\\r\n\r\n"))) ∷  -- further-800
    (codes "c: a\n # n\nifeq (a,b)\nF += ${v a \\\n    x=1\nF=-g", ChangeValue Every (codes "F") (edits.SetIf (codes "-g") []), Accepted 1 1 (span 44 46 [] ∷ []) (Becomes (codes "c: a\n # n\nifeq (a,b)\nF += ${v a \\\n    x=1\nF="))) ∷  -- further-801
    (codes "F = -g\na: x.o b& $(w a) ; true\nifdef A\noverride= x=1 a a:b a  a#-g\nendif\n#exportF = 1\n#X = a\\\\ \\\n b\nF\\\n= a b a  b \\\n \\\n # c\n", ChangeLine None (codes ".RECIPEPREFIX") (edits.Substitute (codes "\\") []), NotTried Reserved) ∷  -- further-802
    (codes "c: b& a $(w a)\n\n\tcc -s x\n\n\t#F = t\n# \r\nifdef A\nF = -g a \\\r\n #\nelse\nX =a:b \\\n    -g | a:b -g# a \\\\\nendif\nc: a\n\ta\nifdef A\n\tb\nelse\n\ta\nendif\n\nF = a\nc: a | b\n\ta\nifdef A\n\tb\nX = 1\nendif\n", ChangeLine None (codes "F") (edits.InsertWord Before (codes "-g") (codes "-O3")), NotTried (Ambiguous 2)) ∷  -- further-803
    (codes "define D\nF += a\nX = ababa\nF += a\noverride define X =\ndefine E\nX\nendef\nendef\nc: # c\n>\ttrue\n>ifdef Q\n>rm -f x\n>a \\\n\tb\n", ExchangeLines (OfRuleRun None (codes "c")) [], Accepted 0 1 (span 76 83 [] ∷ []) (Becomes (codes "define D\nF += a\nX = ababa\nF += a\noverride define X =\ndefine E\nX\nendef\nendef\n>\ttrue\n>ifdef Q\n>rm -f x\n>a \\\n\tb\n"))) ∷  -- further-804
    (codes "F?= = $  b#\r\nifdef A\r\nF := x$(a  b) #-g\r\nendif\r\nifdef B\r\nc: a\r\n\ta a\r\nc: a\r\nifdef A\r\n\ta\r\nendif\r\nendif\r\nc&:\r\n\t\r\n\t\r\n", ChangePrereqs None [] (ReplacePrereq (codes "a") (codes "$(p #)")), NotTried (BadArgument field.Target)) ∷  -- further-805
    (codes "X= ; \\\r\nb\\\na:b\\\nb\nX=\nX += \n#X = 1\nF = a \\\n\t#F = t\n", ChangeLine None (codes "F") (edits.InsertWord Before (codes "a") (codes "$(new a)")), Accepted 1 1 (span 38 38 (codes "$(new a) ") ∷ []) (Becomes (codes "X= ; \\\r\nb\\\na:b\\\nb\nX=\nX += \n#X = 1\nF = $(new a) a \\\n\t#F = t\n"))) ∷  -- further-806
    (codes "c d: b&\nifdef A\n\tcc -s x\nF\\\n= \\\\ \\\\\\\n\\\n${c} a -g#\noverride define X =\nX = 1\n\tababa aaa\nF += a\nendef\noverride += a b\noverride += a b\nendef\nelse\n\t  cc $$f; \\\\", AddLine (AfterRule None (codes "c")) (NewAssign (codes "a.b") Recursive (codes "a\\ b")), NotMade 1 Straddles) ∷  -- further-807
    (codes "override = b $x $(t \\\r\n -g)\\\r\n# a \\\\\r\n# override \\\r\n X = 1\r\nx.o c: # c\r\n\t>a\r\n\t\r\n\ta\\\r\n b\r\nc::\r\n\ta a\r\n", ExchangeLines (OfRun None (block_lines (codes "\r"))) (block_lines (codes "\r")), NotMade 1 (BadArgument field.Old)) ∷  -- further-808
    (codes ".RECIPEPREFIX = F\nX=-g -g#-g\nF =-g\\\n$$\\\n\t$(u $\\ # \\\n d\ninclude: a | b\n\t>a\n\ttrue", ExchangeLines (OfRuleRun None (codes "include")) (block_lines (codes "include:\n\ttrue")), NotMade 2 Reserved) ∷  -- further-809
    (codes "ifdef A\nF= ;# c\nendif\nF=  # a \\\\\ninclude: # c\nifdef A\n\tx \\ y\n\tsay \"q\"\nF+= -g -g $(s (b) a) \ni: x.o x.o x.o ; true\n\nifdef A\n\tcc -s \\\n>y", ExchangeLines (OfRuleRun None (codes "include")) [], NotMade 0 Reserved) ∷  -- further-810
    (codes "c: $(w a) x.o $(w a) | b\r\n\tcc -s \\\n>y\na: b b& | b\n\ttru", AddLine (AfterLastVar (codes "F")) (NewAssign (codes "F") Immediate (codes "x$(a  b)")), NotMade 1 NoSuch) ∷  -- further-811
    (codes "\nF =a  -g $(u\na: \nendif\n", EachLine (SubstValues (codes "(u") (codes "x")), Accepted 1 1 (span 11 13 (codes "x") ∷ []) (Becomes (codes "\nF =a  -g $x\na: \nendif\n"))) ∷  -- further-812
    (codes "d:\r\n\trm -f x\r\n\ta\r\noverride += -g\\\r\n\\\r\nx$(a  b)\r\noverride += -g\\\r\n\\\r\nx$(a  b)", ExchangeLines (AtPlace (BeforeRule None (codes "d"))) (block_lines (codes "X = 1\n")), Accepted 2 0 (span 0 0 (codes "X = 1\r\n\r\n") ∷ []) (Becomes (codes "X = 1\r\n\r\nd:\r\n\trm -f x\r\n\ta\r\noverride += -g\\\r\n\\\r\nx$(a  b)\r\noverride += -g\\\r\n\\\r\nx$(a  b)"))) ∷  -- further-813
    (codes ":: CC ?= $(a b)\\\\\n#\\\\\nF = aaa aaaa # aa\n", ChangeLine None (codes "F") (edits.Substitute (codes "aaa") (codes "\r")), NotTried (BadArgument field.To)) ∷  -- further-814
    (codes "override F = a:b\t| b  b# \\\n d\noverride F = a \\\n    $# x$(a  b) \noverride define X =\n  b\n\tababa aaa\n", ChangeValue (One None) (codes "F") (edits.SetIf (codes "a $# x$(a  b)") (codes "$(A -g) a\\\\")), NotTried (BadArgument field.Value)) ∷  -- further-815
    (codes "i: x.o b x.o ; true\r\n# n\r\n\tcc -s \\\r\n>y\r\nendif\r\na: b\r\nc: a\r\n# n\r\n>true\r\n>true\r\n>\ttrue\r\nc: x.o $(w a) b& | b\r\n\tcc -s \\\r\n>y\r\n# n\r\nF += a\r\nifdef A\r\noverride ::= a b#\r\nelse\r\nX=-g \\\\\\\r\n\t${c}#-g\r\nendif\r\n", EachLine (ChangeEach (codes "F") (edits.SetOperator Shell)), Accepted 1 1 (span 129 131 (codes "!=") ∷ []) (Becomes (codes "i: x.o b x.o ; true\r\n# n\r\n\tcc -s \\\r\n>y\r\nendif\r\na: b\r\nc: a\r\n# n\r\n>true\r\n>true\r\n>\ttrue\r\nc: x.o $(w a) b& | b\r\n\tcc -s \\\r\n>y\r\n# n\r\nF != a\r\nifdef A\r\noverride ::= a b#\r\nelse\r\nX=-g \\\\\\\r\n\t${c}#-g\r\nendif\r\n"))) ∷  -- further-816
    (codes "a.b= $\\# \\\n d\n\t\nX = a x=1 b# a \\\\\n#F::=1\n\tfor f in x; do \\\nX = 1\n\nX = b\t|\n", SwitchLine CommentOut None (codes "X"), NotTried (Ambiguous 2)) ∷  -- further-817
    (codes ".RECIPEPREFIX = t\noverride define X =\n\tdone\n  b\n\nendef\n  # a.b += x \\\n  y\nX\\\n?= $(a\tb)\nc d: x.o\\\n x.o\nifdef A\nendif\nX:= a\\$ # a \\\\", ChangeLine (Some 2) (codes "X") (edits.InsertWord After (codes "a\\$ ") (codes "-O3")), NotTried (BadArgument field.Word)) ∷  -- further-818
    (codes "#\tX := 1\na: b& a x.o\nifdef A\n\tfor f in x; do \\\n\t  cc $$f; \\\n\tdone\n\tcc -s y; cc -s z\nc:\n# n\n\ta\nX = $ \\\n \\\n b a#-g\ndefine D\nendef", EachLine (ChangeEach (codes "X") (edits.ReplaceWord (codes "a") (codes "a"))), Accepted 1 1 (span 108 109 (codes "a") ∷ []) (Becomes (codes "#\tX := 1\na: b& a x.o\nifdef A\n\tfor f in x; do \\\n\t  cc $$f; \\\n\tdone\n\tcc -s y; cc -s z\nc:\n# n\n\ta\nX = $ \\\n \\\n b a#-g\ndefine D\nendef"))) ∷  -- further-819
    (codes "override define X =\na: b\n-include b.mk\na: b\nendef\nX\\\n?=-O2\n", AddLine (AfterVar None (codes "X")) (NewAssign (codes "F") PosixSimple []), Accepted 1 0 (span 59 59 (codes "F ::=\n") ∷ []) (Becomes (codes "override define X =\na: b\n-include b.mk\na: b\nendef\nX\\\n?=-O2\nF ::=\n"))) ∷  -- further-820
    (codes "c:\nifdef A\n\ta # b\n\ta\n\trm -rf x\nc:\n\ta a\nelse\na: b\nX += $(w \\\n a) \\\nx=1 $(a\tb)  -g \n", ChangePrereqs None (codes "c") (ReplacePrereq (codes "$(q:;=|)") (codes "${g(}")), NotTried (Ambiguous 2)) ∷  -- further-821
    (codes "  b\r\ndefine D\r\na: b\r\n\t  cc $$f; \\\r\nF = aaa aaaa # aa\r\ndefine E\r\nX\r\nendef\r\nendef\r\ndefine D\r\nF = a\\\r\n\\\r\n$(A -g)\\\r\n\\\r\nx=1 \\\r\n    \r\n", AddLine (AfterRule None (codes "c")) (NewAssign (codes "F") Simple (codes "a\\ b")), NotMade 1 NoSuch) ∷  -- further-822
    (codes "ifdef A\r\nF += = b  b a\nendif\nendif\n\tfor f in x; do \\\nc: a\n \n\tfor f in x; do \\\nc: a x.o a | a d\nifdef A\n\tfor f in x; do \\\n\t  cc $$f; \\\n\tdone\n#X: = 1\n", EachLine (ChangeEach (codes "F") (edits.ReplaceWord (codes "-g") (codes "-O2"))), NotTried Absent) ∷  -- further-823
    (codes "#Y=\nc: a\n\ta a\n>a:: Y\\\n\\\n:::=\\\n\tfoo \noverride F::= a b -g# \\\n d\nc::\nifdef A\n\ta\nendif\nc: a\n\ta\nifdef A\n\nelse\n\ta\nendif\n\n", SwitchLine Uncomment None (codes ".RECIPEPREFIX"), NotTried Reserved) ∷  -- further-824
    (codes "d c:: a\n\ta \\\n\tb\n\t\n\t a\n\ta\nc d: $(w a) b x.o\\\n x.o\n\tcc -s \\\n>y\n\t#F = t\nc:\nifdef A\n\ta\nendif\nc: a\nifdef A\n\ta\nendif\nF = a\nc: a\nvpath %.c a\na\\b: c\n", ExchangeLines (OfRuleRun (Some 0) (codes "c")) (block_lines (codes "# a \\\n b")), NotMade 1 NoSuch) ∷  -- further-825
    (codes "x.o: ; true\r\n\t>a\n\t# n\n\trm -rf x\nexport F != ${v a \\\nx$(a  b)\n\ttrue\ninclude a.mk\na: b", ExchangeLines (AtPlace (BeforeVar None (codes "F"))) (block_lines (codes "\trm -rf x\nexport F != ${v a \\\nx$(a  b)\n\ttrue")), NotMade 3 Already) ∷  -- further-826
    (codes "F = a b\r\nF += b \\\r\n    $$\r\nF=b \\\r\n    $$\r\nF=-g\r\nF = -g\r\nF = a \r\n", ChangeLine None (codes "F") (edits.SetOperator PosixSimple), NotTried (Ambiguous 6)) ∷  -- further-827
    (codes "-include b.mk\r\n\tababa aaa\n#include = x\n%.o: ;\n\t>a\n\tb", EachLine (SubstRecipe (Some 0) (codes "%.o") (codes " ") []), NotTried NoSuch) ∷  -- further-828
    (codes "c: a | b\nifeq (a,b)\ndefine D \\\n e\n\tfor f in x; do \\\nendef\n\tcc -s x\ni: b&\n\ta\\\r\n\tb\nF\\\n=; \\ b -g  x$(a  b)# c\n", AddLine (AfterLastVar (codes ".RECIPEPREFIX")) (NewAssign (codes "a.b") Recursive (codes "x$(a  b)")), NotMade 1 Reserved) ∷  -- further-829
    (codes ".RECIPEPREFIX = t\na\\b: c\ninclude a.mk\nc: a | b", ExchangeLines (AtPlace (AfterLastVar (codes "F"))) (block_lines (codes "F = a \\")), NotMade 1 (BadArgument field.Block)) ∷  -- further-830
    (codes ".RECIPEPREFIX = >\r\nc %.o:\r\n\ttrue\r\n\tb\r\r\n\n\tababa aaa\r\n\ttrue\r\nF =-O2# \\\r\n d\r\nc d: b | b\r\n\tcc -s x\r\n\tcc -s x\r\n\ttrue\r\n", EachLine (SubstRecipe None (codes "%.o") [] (codes "-O3")), NotTried (BadArgument field.From)) ∷  -- further-831
    (codes "i: \\\r\n x.o\r\n# n\r\n\ttrue\r\n#Y=\r\nifdef A\r\na.b::=  # \\\r\n d\r\nendif\r\nF = b a\t${c} =\\\r\n-g\r\n# t = 1\r\nX !=-g $(s (b) a)# c\r\n", ChangeLine None (codes "X") (edits.ReplaceWord (codes "$(s (b) a)") (codes "-g")), Accepted 1 1 (span 99 109 (codes "-g") ∷ []) (Becomes (codes "i: \\\r\n x.o\r\n# n\r\n\ttrue\r\n#Y=\r\nifdef A\r\na.b::=  # \\\r\n d\r\nendif\r\nF = b a\t${c} =\\\r\n-g\r\n# t = 1\r\nX !=-g -g# c\r\n"))) ∷  -- further-832
    (codes "c:  | a d\n\tfor f in x; do \\\n\t  cc $$f; \\\n\tdone\n\tcc -s y; cc -s z\n\ttrue\ni: $(w a) ; true\n# n\n\ta\\\r\n\tb\n\ta\\\r\n\tb\n#override = 1\n", ExchangeLines (OfRun None (block_lines (codes "c:  | a d\n\tfor f in x; do \\\n\t  cc $$f; \\\n\tdone"))) [], NotMade 0 Leans) ∷  -- further-833
    (codes "F\\\n+= b \\\n-g -O2\na: x.o b x.o\nifdef A\nX += a b\nX = a\nF += a\nF=\n \\\n\n", EachLine (ChangeEach (codes "X") (edits.Prepend [])), NotTried (BadArgument field.Value)) ∷  -- further-834
    (codes "ifdef A\r\nF= b\t; -O2\r\nelse\r\nF:= a:b \\\r\na:b $(w \\\r\n a) #-g\r\nendif\r\n", EachLine (ChangeEach (codes "X") (edits.SetOperator Immediate)), NotTried NoSuch) ∷  -- further-835
    (codes "F += a\\  ${c} \\\n \\\n a:b\\\n\t$(w \\\n a)\\\n\\\na#-g\nF= $# b a -g a:b\nX != a\n\tcc -s x\nc: a\n", ChangeLine (Some 1) (codes "F") (edits.InsertWord After (codes "$(w a)") (codes "-lz")), Accepted 1 1 (span 35 35 (codes "\\\n\\\n-lz") ∷ []) (Becomes (codes "F += a\\  ${c} \\\n \\\n a:b\\\n\t$(w \\\n a)\\\n\\\n-lz\\\n\\\na#-g\nF= $# b a -g a:b\nX != a\n\tcc -s x\nc: a\n"))) ∷  -- further-836
    (codes "c: a\n\ttrue\n\t\noverride F= a:b#\nF= -O2\nc: $(w a) b | b\n\tfor f in x; do \\\n\t  cc $$f; \\\n\tdone", AddLine (BeforeRule (Some 1) (codes "c")) (NewAssign (codes "F") Conditional []), Accepted 1 0 (span 0 0 (codes "F ?=\n") ∷ []) (Becomes (codes "F ?=\nc: a\n\ttrue\n\t\noverride F= a:b#\nF= -O2\nc: $(w a) b | b\n\tfor f in x; do \\\n\t  cc $$f; \\\n\tdone"))) ∷  -- further-837
    (codes ".RECIPEPREFIX = F\r\n#X ?= $(x) # n\r\nifdef A\r\noverride = \\\\\r\n\tx$(a  b)# a \\\\\r\nelse\r\nF!= \r\nendif\r\n", ExchangeLines (AtPlace (BeforeVar None (codes "override"))) (block_lines (codes "# a \\\n b")), Accepted 1 0 (span 44 44 (codes "# a \\\r\n b\r\n") ∷ []) (Becomes (codes ".RECIPEPREFIX = F\r\n#X ?= $(x) # n\r\nifdef A\r\n# a \\\r\n b\r\noverride = \\\\\r\n\tx$(a  b)# a \\\\\r\nelse\r\nF!= \r\nendif\r\n"))) ∷  -- further-838
    (codes "c: # c\n\ta # b\n\ttrue\n\ta\n\t\ndefine D\nendef\nF += a\nF+= -g $$ = $\\\n", AddLine (BeforeVar (Some 1) (codes "F")) (NewAssign (codes "F") Immediate (codes "a")), Accepted 1 0 (span 40 40 (codes "F :::= a\n") ∷ []) (Becomes (codes "c: # c\n\ta # b\n\ttrue\n\ta\n\t\ndefine D\nendef\nF :::= a\nF += a\nF+= -g $$ = $\\\n"))) ∷  -- further-839
    (codes "#F::=1\nifdef A\nX\\\n::= -g -g $(A -g) \nelse\nF = a:b\\\nb a:b#-g\nendif\nc::\nifdef A\n\ta\nendif\nc::\n\ta\nifdef A\n\tb\nX = 1\nendif\nF = a\nF = -g\\\n -g\nifdef A\noverride X== \\\n= a:b \\\r\n \nelse\nF =a\\\n =\nendif\n", SwitchLine Uncomment None (codes "F"), Accepted 1 1 (span 0 1 [] ∷ []) (Becomes (codes "F::=1\nifdef A\nX\\\n::= -g -g $(A -g) \nelse\nF = a:b\\\nb a:b#-g\nendif\nc::\nifdef A\n\ta\nendif\nc::\n\ta\nifdef A\n\tb\nX = 1\nendif\nF = a\nF = -g\\\n -g\nifdef A\noverride X== \\\n= a:b \\\r\n \nelse\nF =a\\\n =\nendif\n"))) ∷  -- further-840
    (codes ".RECIPEPREFIX = t\nX\\\n=$(u\t-O2\nifdef A\nexport F ::= -g |\nendif\n", ChangePrereqs None (codes "c") (ReplacePrereq (codes "a&b") (codes "$(p #)")), NotTried NoSuch) ∷  -- further-841
    (codes "# n", AddLine (AfterRule None (codes "include")) (NewAssign (codes "X") Shell (codes "a:b $(t -g)")), NotMade 1 Reserved) ∷  -- further-842
    (codes "c d: a ; true\n\tcc -s x\nF\\\n::= -g b $(u\\\n\\\n\ni: a b | a d\n\ttrue\n\ttrue", AddLine (BeforeVar None (codes "F")) (NewRule (codes "c") Single []), Accepted 1 0 (span 23 23 (codes "c:\n") ∷ []) (Becomes (codes "c d: a ; true\n\tcc -s x\nc:\nF\\\n::= -g b $(u\\\n\\\n\ni: a b | a d\n\ttrue\n\ttrue"))) ∷  -- further-843
    (codes "F += $(w \\\n a)#-g\nF= \\\n    a\\\\ $(w \\\n a) \\\r\n -O2 \\\n \\\n | \n", EachLine (ChangeEach (codes "F") (edits.ReplaceWord (codes "-O2") (codes "= $(A -g)"))), Accepted 1 1 (span 45 48 (codes "= $(A -g)") ∷ []) (Becomes (codes "F += $(w \\\n a)#-g\nF= \\\n    a\\\\ $(w \\\n a) \\\r\n = $(A -g) \\\n \\\n | \n"))) ∷  -- further-844
    (codes "c: a | b\n\ta\nifdef A\n\tb\nX = 1\nendif\n\na: \n\tfor f in x; do \\\n\t  cc $$f; \\\n\tdone\n\tfor f in x; do \\\n\t  cc $$f; \\\n\tdone\n\ta\\\r\n\tb\ni:  | b\n\tcc -s y; cc -s z\n\ttrue\n\ttrue\n", ChangeLine None [] (edits.InsertWord After (codes "a\\ b") (codes "=")), NotTried (BadArgument field.Name)) ∷  -- further-845
    (codes "d: a\nF!= a\n>true\n>rm -rf x\n", ChangeLine None (codes "F") (edits.ReplaceWord (codes "a") (codes "a b")), Accepted 1 1 (span 9 10 (codes "a b") ∷ []) (Becomes (codes "d: a\nF!= a b\n>true\n>rm -rf x\n"))) ∷  -- further-846
    (codes "F =$(a b) b\\\n x=1\\\n\n# X = \0\n", ExchangeLines (OfRun None (block_lines (codes "F =$(a b) b\\\n x=1\\\n"))) (block_lines (codes "F =$(a b) b\\\n x=1\\\n\n# X = \0")), NotMade 2 (BadArgument field.Block)) ∷  -- further-847
    (codes "\t$(a b) : : $(q:;=|)  ${c}| \t \t\r\n\t$(s\\) &:\\\r\n\tc ${c} \r\n#F = a\\\r\n", ExchangeLines (AtPlace (AfterRule None (codes "a b"))) (block_lines []), NotMade 1 (BadArgument field.Place)) ∷  -- further-848
    (codes ".RECIPEPREFIX = >\nF\\\n= a -O2\n\t#F = t\noverride=$(t \\\n -g) \\\r\n -O2 b\noverride=$(t \\\n -g) \\\r\n -O2 b\noverride=$(t \\\n -g) \\\r\n -O2 b\n", SwitchLine Uncomment None (codes "F"), Accepted 1 1 (span 30 31 [] ∷ []) (Becomes (codes ".RECIPEPREFIX = >\nF\\\n= a -O2\n\tF = t\noverride=$(t \\\n -g) \\\r\n -O2 b\noverride=$(t \\\n -g) \\\r\n -O2 b\noverride=$(t \\\n -g) \\\r\n -O2 b\n"))) ∷  -- further-849
    []

answers_17 : map (λ row. account row.0 row.1) rows_17 ≡ map (λ row. row.2) rows_17
answers_17 = refl

abbrev rows_18 : List (List ℕ × Edit × Account)
rows_18 =
    (codes "endif\r\n", ExchangeLines (AfterRun None (block_lines (codes "zz"))) (block_lines (codes "endef\ndefine D")), NotMade 2 NoSuch) ∷  -- further-850
    (codes "#exportF = 1\nF\\\n?= ; \\\n$(A -g)# \\\n d\ni: \nifdef A\nF = Ã©\nifdef A\nF= ${v a \nendif\n# export F = a\n", SwitchLine Uncomment None (codes "F"), Accepted 1 1 (span 80 82 [] ∷ []) (Becomes (codes "#exportF = 1\nF\\\n?= ; \\\n$(A -g)# \\\n d\ni: \nifdef A\nF = Ã©\nifdef A\nF= ${v a \nendif\nexport F = a\n"))) ∷  -- further-851
    (codes ".RECIPEPREFIX = \nifdef A\nF := = a\t-O2 \nendif\n", AddLine (AfterRule None (codes "include")) (NewRule (codes "c") Double []), NotMade 1 Reserved) ∷  -- further-852
    (codes "a: \n\tcc -s x\n# n\n\ttrue\nc:\nifdef A\n\ta\nendif\nc: a\n\nc: a | b\n# n\n# n\n\ta # b\n\t>a\nF = -g", ExchangeLines (AfterRun None (block_lines (codes "c: a\n"))) (block_lines (codes "F = a \\")), NotMade 1 (BadArgument field.Block)) ∷  -- further-853
    (codes "c d: x.o a a ; true\n# n\nifdef A\n\tfor f in x; do \\\n\t  cc $$f; \\\n\tdone\ni: $(w a) x.o $(w a) | a d\nifdef A\nifdef B\nc:\nifdef A\n\ta\nendif\n\n\tb\nc: a\n\ta\nifdef A\n\tb\nX = 1\nendif\n\nendif\n", EachLine (ChangeEach (codes "X") (edits.ReplaceWord (codes "1") (codes "a"))), Accepted 1 1 (span 159 160 (codes "a") ∷ []) (Becomes (codes "c d: x.o a a ; true\n# n\nifdef A\n\tfor f in x; do \\\n\t  cc $$f; \\\n\tdone\ni: $(w a) x.o $(w a) | a d\nifdef A\nifdef B\nc:\nifdef A\n\ta\nendif\n\n\tb\nc: a\n\ta\nifdef A\n\tb\nX = a\nendif\n\nendif\n"))) ∷  -- further-854
    (codes "ifdef A\n-include b.mk\n$(call t,x)\nX = ababa", ChangeLine (Some 0) (codes "F") (edits.Substitute [] (codes "x")), NotTried (BadArgument field.From)) ∷  -- further-855
    (codes "ifdef A\nF ::= a -g a a:b# a \\\\\nelse\nF = -g # a \\\\\nendif\n \nF := | b b $$  a:b\n", EachLine (ChangeEach (codes "F") (edits.Prepend (codes "$x"))), Accepted 3 3 (span 14 14 (codes "$x ") ∷ span 40 40 (codes "$x ") ∷ span 63 63 (codes "$x ") ∷ []) (Becomes (codes "ifdef A\nF ::= $x a -g a a:b# a \\\\\nelse\nF = $x -g # a \\\\\nendif\n \nF := $x | b b $$  a:b\n"))) ∷  -- further-856
    (codes "#Y=\nF=-g\nF = -g\n#exportF = 1", ChangeValue Every (codes "F") (edits.SetIf (codes "-g") (codes "$ a:b")), Accepted 2 2 (span 6 8 (codes "$ a:b") ∷ span 13 15 (codes "$ a:b") ∷ []) (Becomes (codes "#Y=\nF=$ a:b\nF = $ a:b\n#exportF = 1"))) ∷  -- further-857
    (codes "override += a b\r\noverride=a b", EachLine (ChangeEach (codes "override") (edits.Substitute (codes "a") (codes "x"))), Accepted 2 2 (span 12 13 (codes "x") ∷ span 26 27 (codes "x") ∷ []) (Becomes (codes "override += x b\r\noverride=x b"))) ∷  -- further-858
    (codes "ifdef A\r\nF:= $(u\r\nelse\r\nF\\\r\n= a# c\r\nendif\r\nX\\\r\n?= a -g\\\r\n -g \\\r\n a -g # \\\r\n d\r\n", ExchangeLines (AtPlace Top) (block_lines (codes "endef\ndefine D")), NotMade 2 Misread) ∷  -- further-859
    (codes "#F::=1\r\ndefine D \\\r\n e\r\n$(call t,x)\r\nendef\r\nc: ;\r\n\ty\r\n\tb\r\n\tifdef Q\r\n", AddLine (BeforeVar None (codes "F")) (NewRule (codes "d") Double (codes "a b")), NotMade 1 NoSuch) ∷  -- further-860
    (codes "ifdef A\r\nF ?= \r\nelse\r\noverride F ?= $$ \\\r\n b a  x=1 -g# a \\\\\r\nendif", ChangeLine None (codes "F") (edits.ReplaceWord (codes "$$") (codes "$ b")), NotTried (Ambiguous 2)) ∷  -- further-861
    (codes "## F = 1\nF\\\n?=|\\\n a$ \t\\ b\nc: ;\n\nc:\n\ta a\nF = a\nc::\n\ta\nifdef A\n\tb\nX = 1\nendif\noverride define X =\nX = 1\n\ttrue\nF = aaa aaaa # aa\ndefine E\nX\nendef\nendef", SwitchLine CommentOut (Some 0) (codes "$(X)"), NotTried (BadArgument field.Name)) ∷  -- further-862
    (codes "F!= -g\\\r\n\t= b # a \\\\\nF=$\\\n -g -O2\\\n\\\n-g\nF=$\\\n -g -O2\\\n\\\n-g\nF = $\\\n -g -O2\\\n\\\n-g\nF += a\nF=-O2\\\na\n", ChangeLine (Some 4) (codes "F") (edits.Prepend (codes "-g")), Accepted 1 1 (span 63 63 (codes "-g ") ∷ []) (Becomes (codes "F!= -g\\\r\n\t= b # a \\\\\nF=$\\\n -g -O2\\\n\\\n-g\nF=$\\\n -g -O2\\\n\\\n-g\nF = -g $\\\n -g -O2\\\n\\\n-g\nF += a\nF=-O2\\\na\n"))) ∷  -- further-863
    (codes "override F := a\\\n\\\na\\\n\\\n| x=1 a  # \\\n d\nF += a\nF=-g a:b\nF += -g\nF = -g\\", AddLine (AfterRule (Some 2) (codes "c")) (NewRule (codes "d") Double []), NotMade 1 NoSuch) ∷  -- further-864
    (codes "include: a | b\nelse\n>b\n \\\n\n", AddLine (AfterVar None (codes "override")) (NewAssign (codes "F") Immediate (codes "${c} $x")), NotMade 1 NoSuch) ∷  -- further-865
    (codes "#override = 1\n# private Y=c\ninclude: a\n\trm -f x\n\t a\n\trm -f x", ExchangeLines (OfRun None (block_lines (codes "a\0b"))) [], NotMade 0 (BadArgument field.Old)) ∷  -- further-866
    (codes "\t\\\n$|: :\\\r\n$(s\\)|\\\r\n${c}\\\n\\\n${c} \nF=a:b b -g# a \\\\", AddLine (BeforeRule None (codes "c")) (NewRule (codes "d") Single []), NotMade 1 NoSuch) ∷  -- further-867
    (codes ".RECIPEPREFIX = X\n# override \\\n X = 1\n# F is on\nF=a b\nF = a b\n#exportF = 1\nifdef A\nF\\\n!=\t$\\\n\tb \\\n# a \\\\\nendif\nF\\\n!=", EachLine (ChangeEach (codes "F") (edits.Substitute [] (codes "a b"))), NotTried (BadArgument field.From)) ∷  -- further-868
    (codes "\tababa aaa\nX ?= -g\n", ChangeLine None (codes "X") (edits.Prepend (codes "-g")), Accepted 1 1 (span 16 16 (codes "-g ") ∷ []) (Becomes (codes "\tababa aaa\nX ?= -g -g\n"))) ∷  -- further-869
    (codes "c d: a $(w a) x.o\r\n\ta\\\r\n\tb\r\ndefine D \\\r\n e\r\n# n\r\ndefine E\r\nX\r\nendef\r\nendef\r\n", EachLine (SubstRecipe None (codes "d") (codes "b") (codes "aa")), Accepted 1 1 (span 25 26 (codes "aa") ∷ []) (Becomes (codes "c d: a $(w a) x.o\r\n\ta\\\r\n\taa\r\ndefine D \\\r\n e\r\n# n\r\ndefine E\r\nX\r\nendef\r\nendef\r\n"))) ∷  -- further-870
    (codes "X ?= -O2\ndefine D\n# t = 1\n\nF := =\t$#", ChangeLine (Some 0) (codes "X") (edits.ReplaceWord (codes "-O2") (codes "$ b")), NotTried NoSuch) ∷  -- further-871
    (codes "#F::=1\r\n\t  cc $$f; \\\nX = 1\nF =  \nc: ; true\n\ttrue\n\ttrue\n\n", EachLine (ChangeEach (codes "F") (edits.Substitute (codes "cc") [])), NotTried Absent) ∷  -- further-872
    (codes "#\tX := 1\ni:  | a d\nendif\n# n\n\noverride F?= -g \nF\\\n= -g -g -g ;\n\n$(call t,x)\ninclude a.mk\n#X = a\\\\ \\\n b\n", AddLine (AfterVar None (codes "F")) (NewRule (codes "c") Double (codes "a")), NotMade 1 (Ambiguous 2)) ∷  -- further-873
    (codes "c: a b | b\r\nx.o: # c\r\n# n\r\n\tsay \"q\"\r\n\tx \\ y\r\n\t# n\r\n", ChangePrereqs (Some 1) (codes "c") (ReplacePrereq (codes "b") (codes "a")), NotTried Already) ∷  -- further-874
    (codes "export F ?=a$b  \nF = $\\\n b |\\\n\t; \\\n \\\n ; # a \\\\\n&= X;?\n&\n?:\\\n", AddLine (AfterRule None []) (NewAssign (codes "X") Simple (codes "; $\\x")), NotMade 1 (BadArgument field.Place)) ∷  -- further-875
    (codes "X = 1\n\tcc -s x\na: b& b& b ; true\n\tcc -s y; cc -s z\n\t#F = t\na: \\\n x.o\n\tfor f in x; do \\\n\t  cc $$f; \\\n\tdone\n\tfor f in x; do \\\n\t  cc $$f; \\\n\tdone\na: b& b | b\n\tcc -s \\\n>y\ni: $(w a) x.o a ; true\n\ta\\\r\n\tb\n# n\n\tcc -s \\\n>y", ChangeLine None (codes "X") (edits.Substitute (codes "cc") (codes "ab")), NotTried Absent) ∷  -- further-876
    (codes "#\t\t Y !=b\r\ni:  ; true\r\n\ta\\\r\n\tb\r\nifdef A\r\n\tfor f in x; do \\\r\n\t  cc $$f; \\\r\n\tdone\r\n\t#F = t\r\n  # a.b += x \\\r\n  y\r\n", ExchangeLines (OfRuleRun None (codes "i")) (block_lines (codes "# a \\\n b")), NotMade 1 Straddles) ∷  -- further-877
    (codes "override F= $\\\\\n\t$\\ \\\r\n -O2\\\n; \\\\\noverride define X =\nc: a\n\t  cc $$f; \\\n$(call t,x)\nendef\n", ExchangeLines (AtPlace (BeforeRule None (codes "c"))) (block_lines (codes "c: d\n\tcp $< $@")), NotMade 2 NoSuch) ∷  -- further-878
    (codes "export override=a:b  -O2\nX\\\n::= x=1 \\\n \\\n $(t \\\n -g) |\nc:\n\ta\nifdef A\n\tb\nelse\n\ta\nendif\n\nX= \n#X ?= $(x) # n\nF != = \\\r\n -O2#-g\n", SwitchLine Uncomment None (codes "a b"), NotTried (BadArgument field.Name)) ∷  -- further-879
    (codes "F := \noverride override\\\n!= -O2\\\n\\\n$\\\n", AddLine Bottom (NewRule (codes "d") Single []), NotMade 1 OpenLine) ∷  -- further-880
    (codes "a.b = $(s (b) a) # \\\n d\na:  | a d\nifdef A\n", AddLine (AfterVar (Some 4294967295) (codes "a.b")) (NewRule (codes "c") Single (codes "a")), NotMade 1 NoSuch) ∷  -- further-881
    (codes "F = -g # a \\\\\na.b\\\n::= b -O2 b b -g \nF += a", EachLine (ChangeEach (codes "F") (edits.Substitute (codes "-g") [])), Accepted 1 1 (span 4 6 [] ∷ []) (Becomes (codes "F =  # a \\\\\na.b\\\n::= b -O2 b b -g \nF += a"))) ∷  -- further-882
    (codes "c: ; true\n\ta # b\n\ttrue\n\ttrue \\\r\n\ttrue\ndefine D\n# n\nF = -g\nendef\nF =-g $ \ni: b& a a | b\nF ::=; b \\\r\n -g \\\r\n | $(w \\\n a)# a \\\\\n", EachLine (SubstRecipes (codes "\\") (codes "x=1")), NotMade 1 Misread) ∷  -- further-883
    (codes "F := -g a:b $(w \\\n a) a$  b\nF := # c", EachLine (ChangeEach (codes "F") (edits.Substitute (codes " a$  ") (codes ")"))), Accepted 1 1 (span 21 26 (codes ")") ∷ []) (Becomes (codes "F := -g a:b $(w \\\n a))b\nF := # c"))) ∷  -- further-884
    (codes "c&: a | b\n\t\\\n\nF =\\\n\\\n$$ \\\n \\\n $\\\n", AddLine (AfterLastVar (codes "F")) (NewRule (codes "c") Single (codes "a b")), NotMade 1 OpenLine) ∷  -- further-885
    (codes "#F = a\\\nF = -g\nc&: ; true\n\t\ttrue\n\trm -rf x\n\trm -rf x\n\t a", ExchangeLines (AtPlace (BeforeVar None (codes "F"))) (block_lines (codes "#X = 1\n\tababa aaa")), NotMade 2 NoSuch) ∷  -- further-886
    (codes "c: # c\n\ttrue \\\r\n\ttrue\n\ta\nvpath %.c a\nX = ababa\nc: a | b\n\ta a\n\nc: a\n\ta a\nF = a\nF\\\n= $(u -g $#\n", ChangeLine None (codes "X") (edits.ReplaceWord (codes "ababa") (codes "$ b")), Accepted 1 1 (span 41 46 (codes "$ b") ∷ []) (Becomes (codes "c: # c\n\ttrue \\\r\n\ttrue\n\ta\nvpath %.c a\nX = $ b\nc: a | b\n\ta a\n\nc: a\n\ta a\nF = a\nF\\\n= $(u -g $#\n"))) ∷  -- further-887
    (codes "a\\b: c\na: x.o | a d\n# n\nendif\ndefine D \\\n e\n-include b.mk\nc: a\nendef\nF!= -O2 a\\  \nexport X\\\n= -O2\\\n\ta$\\\n", ChangeValue (One None) (codes "F") (edits.SetIf (codes " a") []), NotTried (BadArgument field.Old)) ∷  -- further-888
    (codes "# n\r\n\nendef\n#\tX := 1 ", ExchangeLines (AfterRun None (block_lines (codes "# n"))) (block_lines (codes "ifdef A")), NotMade 1 Misread) ∷  -- further-889
    (codes "a: b\\\r\n x.o\r\n\tcc -s y; cc -s z\r\n\ta\\\r\n\tb\r\n", ChangePrereqs None (codes "a") (ReplacePrereq (codes "x.o") (codes "\\")), NotTried (BadArgument field.New)) ∷  -- further-890
    (codes ".RECIPEPREFIX = X\ndefine D \\\n e\nX = 1\nendef\noverride F ?= -O2\\\n $(t \\\n -g)#-g\nF:= -g \\\\#-g", ExchangeLines (AtPlace (AfterLastVar (codes "F"))) (block_lines (codes "endif\nifdef B")), NotMade 2 Misread) ∷  -- further-891
    (codes "ifdef A\nF != \nelse\nX += ; b#\nendif\n", ExchangeLines (AtPlace (AfterVar (Some 0) (codes "F"))) (block_lines (codes "ifdef A\nX = 1\nendif")), NotMade 3 NoSuch) ∷  -- further-892
    (codes "F\\\n=$(s (b) a) -O2\ta\\\n\n-include b.mk\nc:: a | b\n\ttrue\n #c \\\n d\nF?= b b\nF\\\n!= -g -g x=1 \\\n=\n", EachLine (SubstRecipe None (codes "c") (codes "true") []), Accepted 1 1 (span 48 52 [] ∷ []) (Becomes (codes "F\\\n=$(s (b) a) -O2\ta\\\n\n-include b.mk\nc:: a | b\n\t\n #c \\\n d\nF?= b b\nF\\\n!= -g -g x=1 \\\n=\n"))) ∷  -- further-893
    (codes "override define X =\r\n$(call t,x)\nendef\nF := \\\n    \nc&:\n\tt\n\t\\\n\ndefine D\n  b\ndefine E\nX\nendef\nendef\n", ExchangeLines (AtPlace Bottom) (block_lines (codes "\tcc -s x\n \n\t  cc $$f; \\")), NotMade 3 (BadArgument field.Block)) ∷  -- further-894
    (codes "export F !=-g  $(s (b) a) \nF= a $(s (b) a)\\\nx=1\na: x.o $(w a) b | a d\n\ttrue\n\tcc -s x\nF=$ \nF=$ \nF= -g $(t \\\n -g) -g # \\\n d\n", EachLine (ChangeEach (codes "a.b") (edits.ReplaceWord (codes "-g") (codes "b"))), NotTried NoSuch) ∷  -- further-895
    (codes "c::\n\ta\nifdef A\n\tb\nX = 1\nendif\nc: a\n\ta\nifdef A\n\tb\nX = 1\nendif\n#>X = 1\n", ChangeValue (One None) (codes "X") (edits.SetIf (codes "1") (codes ";")), NotTried (Ambiguous 2)) ∷  -- further-896
    (codes "# \\\nc:\nifdef A\n\ta\nendif\n\n\tb\n\nc: a\nifdef A\n\ta\nendif\nF?= \\\\#\t\t Y !=b\n", ChangeLine None (codes "F") (edits.ReplaceWord (codes "\\\\") (codes ";")), NotTried (BadArgument field.Word)) ∷  -- further-897
    (codes "c:\n\ta a\nc:\nifdef A\n\ta\nendif\n\n\tb\nelse\nelse\nF = -g\nendef\n${g(} $(a b) : \t$(f {)  $(a b) \t#\0\n", EachLine (ChangeEach (codes "F") (edits.SetOperator Recursive)), Accepted 1 1 (span 44 45 (codes "=") ∷ []) (Becomes (codes "c:\n\ta a\nc:\nifdef A\n\ta\nendif\n\n\tb\nelse\nelse\nF = -g\nendef\n${g(} $(a b) : \t$(f {)  $(a b) \t#\0\n"))) ∷  -- further-898
    (codes "\tcc -s x\n#X = r\\\r\n s", ExchangeLines (BeforeRun None (block_lines (codes "#X = r\\\n s"))) (block_lines (codes "endef\ndefine D")), NotMade 2 Misread) ∷  -- further-899
    []

answers_18 : map (λ row. account row.0 row.1) rows_18 ≡ map (λ row. row.2) rows_18
answers_18 = refl
