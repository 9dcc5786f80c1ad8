-- Edits with their answers. Made by `tests/definitions/edit_rows.py tests/cases/edits/random-recipes.tsv`.
use Rattle.std.proofs.Common.{◌≡◌, refl, ℕ, List, [], ◌∷◌, map, Some, None}
use Rattle.std.specs.Prelude.{codes}
use Rattle.mk_edit_language.specs.Edits.{Edit}
use Rattle.mk_edit_language.specs.Edits.{ByText, At, OfRecipe, AddRecipe, SetRecipe, RemoveLines}
use Rattle.mk_edit_language.specs.declared.refusal.Refusal.TheVariants.{BadArgument, Reserved, RecipePrefix, NoSuch, Ambiguous, Absent, Straddles, OpenLine}
use Rattle.mk_edit_language.specs.declared.refusal.Field.TheVariants as field
use Rattle.mk_rows.proofs.edits.Outcomes.{account, Account, span, Becomes, Accepted, NotMade}

abbrev rows_1 : List (List ℕ × Edit × Account)
rows_1 =
    (codes "d:\n\trm -rf x\n\t\ttrue\n\tsay \"q\"\nt1:= \\\n \ninclude: # c\n \n\t a\n", RemoveLines (OfRecipe None (codes "c") (ByText (codes "a"))), NotMade 0 NoSuch) ∷  -- recipes-2
    (codes "c: a | b\n# \\\n n\n>y\r\n%.o: # c\nc: a\n\ta\n", SetRecipe (Some 1) (codes "c") (ByText (codes "a # b")) (codes "\ttrue"), NotMade 1 Absent) ∷  -- recipes-5
    (codes "d d: # c\nendif\n>true", AddRecipe None (codes "d") (At 1) (codes "true"), Accepted 1 0 (span 9 9 (codes "\ttrue\n") ∷ []) (Becomes (codes "d d: # c\n\ttrue\nendif\n>true"))) ∷  -- recipes-8
    (codes ".RECIPEPREFIX = >\nX += \\\n \\\n -g\\\n=\ta\nd c:\n\tb\nifeq (a,b)\n%.o: a | b\n>ifdef Q\n>true\n", AddRecipe None (codes "%.o") (At 4294967295) (codes " a"), NotMade 1 Absent) ∷  -- recipes-13
    (codes "ifdef A\noverride a.b += a\\\n\ta ; ; $(a b)# a \\\\\nelse\nF =a\nendif\nifdef A\nF::=|# \\\n d\nendif\n", SetRecipe None (codes "include") (ByText (codes "a # b")) (codes "# n"), NotMade 1 Reserved) ∷  -- recipes-18
    (codes "c: ; true\nF\\\n= a \\\n \\\n \nF := $  \\\n \\\n | $x\\\n\t#\noverride= ${c} -O2\\\n\t-g \\\r\n -g\\\n\\\n-g \\\n# \\\n d\noverride\\\n= #-g\n", SetRecipe None (codes "c") (ByText (codes "rm -f x")) (codes "a"), NotMade 1 Absent) ∷  -- recipes-22
    (codes "c: a\n\t>a\nc: a\n>ifdef Q\nifdef A\n> a\n>rm -f x\n", AddRecipe None (codes "c") (At 1) (codes "a\0"), NotMade 1 (BadArgument field.Line)) ∷  -- recipes-26
    (codes "F\\\n= a\r\\\na\nc&: # c\n>say \"q\"\n>y\r\nX := -g\nd&a | b\n\trm -f x\n\trm -rf x\r", AddRecipe None (codes "c") (At 1) (codes "\ttrue"), Accepted 1 0 (span 19 19 (codes "\t\ttrue\n") ∷ []) (Becomes (codes "F\\\n= a\r\\\na\nc&: # c\n\t\ttrue\n>say \"q\"\n>y\r\nX := -g\nd&a | b\n\trm -f x\n\trm -rf x\r"))) ∷  -- recipes-27
    (codes "F= =\ni\nclude: a | b\n\trm -rf\\\\\n x\n", SetRecipe (Some 0) (codes "clude") (ByText (codes "true")) (codes "true"), NotMade 1 NoSuch) ∷  -- recipes-28
    (codes "c: # c\n \n\t>a\nc: # c\n\ttrue\nX\\\n!= \\\n    $$\\\nb b -g# a \\\\\nc: ; true\n\t\ttrue\nF\\\n=-g  -O2 a# a \\\\\n", RemoveLines (OfRecipe (Some 3) (codes "c") (ByText (codes "\ttrue"))), Accepted 0 1 (span 65 72 [] ∷ []) (Becomes (codes "c: # c\n \n\t>a\nc: # c\n\ttrue\nX\\\n!= \\\n    $$\\\nb b -g# a \\\\\nc: ; true\nF\\\n=-g  -O2 a# a \\\\\n"))) ∷  -- recipes-29
    (codes "%.o d: a | b\r\nelse\r\n\tx \\ y\r\n\t>a\r\nF =b# a \\\\\r\nF:== = -g -g\r\nX?=\ta b -g\r\n", SetRecipe None (codes "%.o") (ByText []) (codes "\ttrue"), NotMade 1 Absent) ∷  -- recipes-30
    (codes "F += -g  a:b ${c}\r\na.b\\\r\n::= | -g a\\\r\n; \r\nc: a\r\n\t\ttrue\r\n\ttrue\r\n\ttrue\r\n\t\ttrue\r\nc&: ; true\r\n\trm -rf x\r\nifeq (a,b)\r\n", SetRecipe (Some 1) (codes "c") (ByText (codes "true")) (codes "\ttrue"), NotMade 1 (Ambiguous 2)) ∷  -- recipes-36
    (codes "a.b\\\n= b a:b |", SetRecipe None (codes "d") (ByText (codes "say \"q\"")) (codes "t"), NotMade 1 NoSuch) ∷  -- recipes-40
    (codes ".RECIPEPREFIX = >\r\nF?=\r\n\\\r\n\t\r\n\t \r\nc: ; true\r\n\tx \\ y\r\n\tx \\ y\r\nc&: ; true\r\n", AddRecipe None (codes "c") (At 1) (codes "rm -rf x"), NotMade 1 (Ambiguous 2)) ∷  -- recipes-42
    (codes "ifdef :::=\\\n\t\\$x \nX= | = -g #\n", AddRecipe None (codes "c") (At 1) (codes "a # b"), NotMade 1 NoSuch) ∷  -- recipes-45
    (codes "F =  \nF =$  $(w \\\n a) $(w \\\n a)\nc&: ; true\n\t\nc:\n\tx \\ y\n\t\n\ttrue\n\tsay \"q\"\nifdef A\nF+= a$\\\tb  $# b\\\n \nendif", AddRecipe (Some 4294967295) (codes "c") (At 1) (codes "rm -f x"), NotMade 1 NoSuch) ∷  -- recipes-50
    (codes "x.o:: a\n\ta\\\\\n\ttrue\n\ta # b\n# \\\n n\n", AddRecipe (Some 4294967295) (codes "include") (At 1) (codes ">a"), NotMade 1 Reserved) ∷  -- recipes-51
    (codes "ifdef A\nF !=$(w \\\n a) = -g ;#\nendif\n\\\n\t\nc: ; true\n\trm -f x\n\t>a\n\ta \\\n\tb\n", SetRecipe None (codes "c") (ByText (codes "rm -f x")) (codes "a # b"), Accepted 1 1 (span 51 58 (codes "a # b") ∷ []) (Becomes (codes "ifdef A\nF !=$(w \\\n a) = -g ;#\nendif\n\\\n\t\nc: ; true\n\ta # b\n\t>a\n\ta \\\n\tb\n"))) ∷  -- recipes-53
    (codes "endef#$$=\\\n$!$};\nc: a\n>true\n>true\n>rm -f x\n># n\nc: ;\n", RemoveLines (OfRecipe (Some 2) (codes "c") (ByText (codes "b"))), NotMade 0 Absent) ∷  -- recipes-54
    (codes "F :=\nexport override= b -O2# \\\n d\ninclude&: ; true\n>true\n>\n>rm -rf x\\\n", AddRecipe (Some 0) (codes "c") (At 1) (codes "true"), NotMade 1 NoSuch) ∷  -- recipes-57
    (codes "c: ;\nF !=a b -g -g $\nc&:\n\t a\n\t\n\ta\n\ttrue", SetRecipe (Some 1) (codes "c") (ByText (codes "true")) (codes "a"), NotMade 1 Absent) ∷  -- recipes-60
    (codes "c: a | b", AddRecipe (Some 1) (codes "c") (At 4294967295) (codes "# n"), NotMade 1 Absent) ∷  -- recipes-66
    (codes "c:\nF = -g -g ; -g -O2 #-g\n.RECIPEPREFIX = >\n", RemoveLines (OfRecipe (Some 4294967295) (codes "c") (ByText (codes "ifdef Q"))), NotMade 0 NoSuch) ∷  -- recipes-68
    (codes ".RECIPEPREFIX = >\r\nc:\n\t>a\n\trm -rf x\n# n", RemoveLines (OfRecipe None (codes "c") (ByText (codes "true"))), NotMade 0 Absent) ∷  -- recipes-69
    (codes "include: ;\n\ttrue\n \n\tb\nF = = \\\r\n -g \\\n    b#-g\nX ::=  \nF = \\ b x$(a  b) # a \\\\\nF\\\n:= x=1 |\t-g", AddRecipe (Some 0) (codes "d") (At 1) (codes "say \"q\""), NotMade 1 NoSuch) ∷  -- recipes-70
    (codes "ifdef A\nF = \\\n    ; -O2 a -g a# \\\n d\nelse\noverride\\\n+=$# = x=1 -O2\nendif\nc: a | b\n>true\n>\ttrue\nifdef A\n>true\nF += -g a", AddRecipe None (codes "c") (At 1) (codes " a"), Accepted 1 0 (span 82 82 (codes "\t a\n") ∷ []) (Becomes (codes "ifdef A\nF = \\\n    ; -O2 a -g a# \\\n d\nelse\noverride\\\n+=$# = x=1 -O2\nendif\nc: a | b\n\t a\n>true\n>\ttrue\nifdef A\n>true\nF += -g a"))) ∷  -- recipes-73
    (codes "F\\\n!= \nF != x$(a  b) \\\r\n $#\ta\nc: ; true\n\t\ttrue\n\t\nF = -g -g\\\n\t", AddRecipe None (codes "c") (At 0) (codes "true"), NotMade 1 Absent) ∷  -- recipes-78
    (codes "F\\\n::= -O2\\\n\\\n\\\\\\\\ a:b\n\\\n$| ::: \\\n \\\n $(p #) $(q:;=|)\t${c}\nd: a | b\nifeq (a,b)\nexport X\\\n:= $x b a \n\trm -rf x\n\ttrue\nF\\\n= ${v a\\\n\ta\\ \n", AddRecipe (Some 2) (codes "c") (At 1) (codes "a # b"), NotMade 1 NoSuch) ∷  -- recipes-82
    (codes "c:: a\n>say \"q\"\nd:\n\ttrue \\\r\n\ttrue\n\ta\noverride define E # c\nF := \\\n \\\n a\\\\ a:b -g# a \\\\\n\t#\0\n", SetRecipe (Some 0) (codes "c") (ByText []) (codes "rm -rf x"), NotMade 1 NoSuch) ∷  -- recipes-86
    (codes "include: ;\r\n\t>a\r\n\ta\r\nc: # c\r\n", SetRecipe None (codes "c") (ByText (codes "a # b")) (codes ">a"), NotMade 1 Absent) ∷  -- recipes-87
    (codes "F\\\n= a Ã©\\\n# \\\n d\nX ?=  ", RemoveLines (OfRecipe (Some 4294967295) (codes "%.o") (ByText (codes "\ttrue"))), NotMade 0 NoSuch) ∷  -- recipes-90
    (codes "c:define\r\n>>a\r\n", RemoveLines (OfRecipe None (codes "c") (ByText (codes "true"))), NotMade 0 Absent) ∷  -- recipes-92
    (codes "c: ;\n", AddRecipe None (codes "c") (At 2) (codes "a\r"), NotMade 1 (BadArgument field.Line)) ∷  -- recipes-97
    (codes ".RECIPEPREFIX = >\nF +=  # a \\\\\n.RECIPEPREFIX = >\nc: ; true\n\t>a\nX\\\n?= $(t \\\n -g) \\\r\n ;\n", RemoveLines (OfRecipe None (codes "c") (ByText (codes "\ttrue"))), NotMade 0 Absent) ∷  -- recipes-98
    (codes "ifdef A\nF =\\\n\\\n-g#\nendif\n%.o:: a&b \nF = ${c} \\\n \\\n $x -g\nF!= b  -g ${v a a\\\n\\\nb\nc: a\n\t\n\t>a\n\ta\\\n>b\r", AddRecipe (Some 1) (codes "%.o") (At 1) (codes "true"), Accepted 1 0 (span 36 36 (codes "\ttrue\n") ∷ []) (Becomes (codes "ifdef A\nF =\\\n\\\n-g#\nendif\n%.o:: a&b \n\ttrue\nF = ${c} \\\n \\\n $x -g\nF!= b  -g ${v a a\\\n\\\nb\nc: a\n\t\n\t>a\n\ta\\\n>b\r"))) ∷  -- recipes-101
    (codes "# \\\n", RemoveLines (OfRecipe (Some 4294967295) (codes "c") (ByText (codes "rm -f x"))), NotMade 0 NoSuch) ∷  -- recipes-102
    (codes ".RECIPEPREFIX = >\nc:: ; true\n>\nc:: # c\n\ttrue\nc&:\n\ta\n\t\n\ta\\\\\n", SetRecipe (Some 3) (codes "c") (ByText (codes "b")) (codes "a # b"), NotMade 1 Absent) ∷  -- recipes-103
    (codes "x.o: # c\r\n\tifdef Q\r\n \r\nd: a\r\n>a # b\r\n>ifdef Q\r\n>a\r\nF= \\#\\\r\n x=1 \\\r\n    b #-g ", RemoveLines (OfRecipe None (codes "x.o") (ByText (codes "ifdef Q"))), Accepted 0 1 (span 10 20 [] ∷ []) (Becomes (codes "x.o: # c\r\n \r\nd: a\r\n>a # b\r\n>ifdef Q\r\n>a\r\nF= \\#\\\r\n x=1 \\\r\n    b #-g "))) ∷  -- recipes-109
    (codes "ex&ort X=  \\\n \\\n \\\n", SetRecipe None (codes "c") (ByText (codes "true")) (codes "b"), NotMade 1 NoSuch) ∷  -- recipes-112
    (codes "X ?= #\r\nd:: a | b\r\n\t a\r\n\trm -rf x\r\n", RemoveLines (OfRecipe (Some 4294967295) (codes "d") (ByText (codes "t"))), NotMade 0 NoSuch) ∷  -- recipes-113
    (codes "d: a | b\r\n\t\r\nendif\r\n\tifdef Q\r\n\t$true\r\n", AddRecipe None (codes "d") (At 2) (codes "a"), Accepted 1 0 (span 13 13 (codes "\ta\r\n") ∷ []) (Becomes (codes "d: a | b\r\n\t\r\n\ta\r\nendif\r\n\tifdef Q\r\n\t$true\r\n"))) ∷  -- recipes-115
    (codes "c: # c\n>rm -rf x\n>rm -f x\n>a\n>t\n", AddRecipe (Some 2) (codes "c") (At 2) (codes ">a"), NotMade 1 NoSuch) ∷  -- recipes-118
    (codes "a.b= \r\n", AddRecipe None (codes "c") (At 1) (codes "ifdef Q"), NotMade 1 NoSuch) ∷  -- recipes-120
    (codes "d::\n \nd: # c\n\t>a\n\ta\nendif\n\tt\n", RemoveLines (OfRecipe (Some 1) (codes "d") (ByText (codes "true"))), NotMade 0 Absent) ∷  -- recipes-125
    (codes "c:\n>a # b\n>a # b\n>true\nc:\n\t\n\t# n\n\t# n\nifeq (a,b)\n", RemoveLines (OfRecipe (Some 2) (codes "c") (ByText (codes "# n"))), NotMade 0 (Ambiguous 2)) ∷  -- recipes-128
    (codes ".RECIPEPREFIX = >\n# \r\nc: ;\n\t a\n\tsay \"q\"\n\ta\\\n b\nifeq (a,b)\nifdef A\nF\\\n= $$ -g a #-g\nelse\nF+= \\\\\\\\\nendif\n\t \nF\\\n= \\\\\\\\\\\n\\\na\\\n\\\n= b#\n", AddRecipe None (codes "c") (At 0) (codes "a"), NotMade 1 Absent) ∷  -- recipes-131
    (codes "c::\r\n\t \r\n", AddRecipe None (codes "c") (At 3) (codes "a"), NotMade 1 Absent) ∷  -- recipes-132
    (codes "c&: # c\r\n>\ttrue\r\n>true\r\na.b\\\r\n= | -O2 \r\nF = \\\r\n \\\r\n ${v a $\\# a \\\\\r\nc: # c\r\nifeq (a,b)\r\n\tb\r\nifdef A\r\nX = =\\\r\n\t-O2 ; \\# \r\nendif", AddRecipe (Some 1) (codes "c") (At 1) (codes ">a"), Accepted 1 0 (span 9 9 (codes "\t>a\r\n") ∷ []) (Becomes (codes "c&: # c\r\n\t>a\r\n>\ttrue\r\n>true\r\na.b\\\r\n= | -O2 \r\nF = \\\r\n \\\r\n ${v a $\\# a \\\\\r\nc: # c\r\nifeq (a,b)\r\n\tb\r\nifdef A\r\nX = =\\\r\n\t-O2 ; \\# \r\nendif"))) ∷  -- recipes-134
    (codes " \nc: ;\nifeq (a,b)\n#\\\\\n", AddRecipe (Some 4294967295) (codes "c") (At 1) (codes "\ttrue"), NotMade 1 NoSuch) ∷  -- recipes-137
    (codes "%.o: a\n", SetRecipe (Some 4294967295) (codes "%.o") (ByText (codes "a")) (codes "true"), NotMade 1 NoSuch) ∷  -- recipes-140
    []

answers_1 : map (λ row. account row.0 row.1) rows_1 ≡ map (λ row. row.2) rows_1
answers_1 = refl

abbrev rows_2 : List (List ℕ × Edit × Account)
rows_2 =
    (codes "c&: ;\n> a\n", AddRecipe None (codes "c") (At 0) (codes "true"), NotMade 1 Absent) ∷  -- recipes-141
    (codes "# \r\nX\\\n::= x=1  -g b\nF!= $# \\\n \\\n x=1 $(a b)\nF ::= \\\n \\\n b\nX\\\n= ", AddRecipe None (codes "c") (At 1) (codes "\ttrue"), NotMade 1 NoSuch) ∷  -- recipes-147
    (codes "c: ; true\n\ttrue\n", SetRecipe None (codes "c") (ByText (codes "true")) (codes "true"), Accepted 1 1 (span 11 15 (codes "true") ∷ []) (Becomes (codes "c: ; true\n\ttrue\n"))) ∷  -- recipes-154
    (codes "X ::= -O2 -O2\noverride\\\n= x=1 b -O2\\\n\t#\nc c:: a\n\t>a\n\trm -f x\n", SetRecipe (Some 0) (codes "c") (ByText (codes "a\0")) (codes "x \\ y"), NotMade 1 (BadArgument field.Old)) ∷  -- recipes-156
    (codes "d: ; true\n# n\n\t# n\noverride\\\n+= b -g\nifdef A\na.b\\\n!= -O2\nendif\nifdef A\nexport F\\\n=$$  ;\nelse\nF ::=-O2 \\\na\\\n\nendif", AddRecipe (Some 2) (codes "d") (At 1) (codes "\ttrue"), NotMade 1 NoSuch) ∷  -- recipes-159
    (codes "include: ;\n", AddRecipe None (codes "include") (At 1) (codes "a\\\\"), NotMade 1 (BadArgument field.Line)) ∷  -- recipes-160
    (codes "c: ;\n\t\ttrue\n\t\ttrue\n", SetRecipe None (codes "c") (ByText (codes "\ttrue")) (codes "x \\ y"), NotMade 1 (Ambiguous 2)) ∷  -- recipes-161
    (codes "d: a | b\n\tt\n\t\ttrue\n\ta\n", SetRecipe None (codes "d") (ByText (codes "t")) (codes "true"), Accepted 1 1 (span 10 11 (codes "true") ∷ []) (Becomes (codes "d: a | b\n\ttrue\n\t\ttrue\n\ta\n"))) ∷  -- recipes-162
    (codes "d: # c\nd:\n\ttrue\n\trm -f x\n\t# n\nd d:\nd c:\n>\n>x \\ y\n", RemoveLines (OfRecipe (Some 4) (codes "d") (ByText (codes "t"))), NotMade 0 Absent) ∷  -- recipes-163
    (codes "F ?== \\\n    a\\  =#-g\nc&: # c\n\tsay \"q\"\n\ta\\\\\n\ttrue\noverride ?= # a \\\\\nifdef A\nF\\\n=a\\$ $(a b) \\\r\n a:b $(w \\\n a)# c\nelse\nX ::=-O2\nendif\n", SetRecipe None (codes "c") (ByText (codes "a")) (codes "b"), NotMade 1 Absent) ∷  -- recipes-165
    (codes "override F::X\r\n$\\\r\n\\\r\n-O2 -g \\\r\n    x$(a  b) b\r\nendef#c\rb\n.RECIPEPREFX = >\r\noverride\\\r\n!= -g $\\\r\n \\\r\n    $a b) x=1 -O2\r\n", RemoveLines (OfRecipe (Some 1) (codes "F") (ByText (codes "a"))), NotMade 0 Absent) ∷  -- recipes-166
    (codes "F= a -g\noverride += \nF?= b $(a\tb) \n%.o d: a | b\n\t\n", RemoveLines (OfRecipe (Some 1) (codes "%.o") (ByText [])), Accepted 0 1 (span 48 50 [] ∷ []) (Becomes (codes "F= a -g\noverride += \nF?= b $(a\tb) \n%.o d: a | b\n"))) ∷  -- recipes-167
    (codes "\\\n%.o :$x\nc: ; true\n ", SetRecipe None (codes "c") (ByText (codes "a # b")) (codes "say \"q\""), NotMade 1 Absent) ∷  -- recipes-169
    (codes "c: # c\nifeq (a,b)\nendif\n", SetRecipe None (codes "c") (ByText []) (codes "b"), NotMade 1 Absent) ∷  -- recipes-177
    (codes "d: a | b\r\n\t>a\r\n\t\r\n\t\ttrue\r\n# n\r\nc:\r\n>a\r\n>say \"q\"\r\n>t\r\nF\\\r\n= \r\n", RemoveLines (OfRecipe (Some 1) (codes "d") (ByText (codes ">a"))), Accepted 0 1 (span 10 15 [] ∷ []) (Becomes (codes "d: a | b\r\n\t\r\n\t\ttrue\r\n# n\r\nc:\r\n>a\r\n>say \"q\"\r\n>t\r\nF\\\r\n= \r\n"))) ∷  -- recipes-178
    (codes "endef#c\r\nc d&: a\r\n# \\\r\n n\r\n \r\n\ta # b\r\n\trm -f x\r\nd: ;\r\nifdef A\r\n\ttrue\r\n", RemoveLines (OfRecipe (Some 1) (codes "d") (ByText (codes "rm -f x"))), Accepted 0 1 (span 38 48 [] ∷ []) (Becomes (codes "endef#c\r\nc d&: a\r\n# \\\r\n n\r\n \r\n\ta # b\r\nd: ;\r\nifdef A\r\n\ttrue\r\n"))) ∷  -- recipes-180
    (codes "F\\\r\n= x$(a  b)\\\r\nb b a\\  \\\r\n    ${c} #-g\r\n", RemoveLines (OfRecipe None (codes "%.o") (ByText (codes "ifdef Q"))), NotMade 0 NoSuch) ∷  -- recipes-183
    (codes "c: ;\n\ta\\\n>b\ndefine D\nc: ; true\n\t\n\ta # b\n\ta #{b\\\nF=b\\\n\t| Xb)# c\nendef\n", AddRecipe None (codes "c") (At 2) (codes "true"), Accepted 1 0 (span 12 12 (codes "\ttrue\n") ∷ []) (Becomes (codes "c: ;\n\ta\\\n>b\n\ttrue\ndefine D\nc: ; true\n\t\n\ta # b\n\ta #{b\\\nF=b\\\n\t| Xb)# c\nendef\n"))) ∷  -- recipes-194
    (codes "c: ;\r\n>a\r\nF = a:b a -g\r\nF := -O2#\r\n", AddRecipe None (codes "c") (At 1) (codes "ifdef Q"), Accepted 1 0 (span 6 6 (codes "\tifdef Q\r\n") ∷ []) (Becomes (codes "c: ;\r\n\tifdef Q\r\n>a\r\nF = a:b a -g\r\nF := -O2#\r\n"))) ∷  -- recipes-197
    (codes "x.o: ;\n\ta\n\ttrue\n \\\n\tt %.o&:\\\n\t\\\r\ndefine=  \\\n\nexport F\\\n: a a \\\n-g -O2 b ", SetRecipe (Some 2) (codes "x.o") (ByText (codes "a # b")) (codes "true"), NotMade 1 NoSuch) ∷  -- recipes-205
    (codes "F+= -g\t\r\nexport a.b\\\r\n+= x=1\t-O2\r\nc: # c\r\nelse\r\n\tx \\  \r\n\ttrue\r\n\ta\r\n", RemoveLines (OfRecipe (Some 1) (codes "c") (ByText (codes "ifdef Q"))), NotMade 0 Absent) ∷  -- recipes-207
    (codes "d: ; true\n>q :::=  \nc:\n\ta\n\tsay \"q\"\n\t\ttrue", SetRecipe None (codes "c") (ByText (codes "say \"q\"")) (codes "say \"q\""), Accepted 1 1 (span 27 34 (codes "say \"q\"") ∷ []) (Becomes (codes "d: ; true\n>q :::=  \nc:\n\ta\n\tsay \"q\"\n\t\ttrue"))) ∷  -- recipes-209
    (codes "X::=-g a:b $(t \\\r\n -g)\r\nifdef A\r\noverride\\\r\n=b $(s (b) a)# \\\r\n d\r\nendif\r\na.b += \r\ninclude %.o: a\r\n\trm -rf x\r\n \r\nc:: ;\r\n\ta\r\n\ta\r\n\t\ttrue", RemoveLines (OfRecipe (Some 2) (codes "c") (ByText (codes "rm -rf x"))), NotMade 0 NoSuch) ∷  -- recipes-218
    (codes "c: ;\n\ta\n \nF ?= -O2 $(s (b) a)\nd: # c\n\t\n\ta\n\ta\\\n>b\n", SetRecipe None (codes "d") (ByText (codes "a")) (codes "a # b"), Accepted 1 1 (span 40 41 (codes "a # b") ∷ []) (Becomes (codes "c: ;\n\ta\n \nF ?= -O2 $(s (b) a)\nd: # c\n\t\n\ta # b\n\ta\\\n>b\n"))) ∷  -- recipes-219
    (codes "override F !=a$  \\\n    -O2 b\t-O2 |# a \\\\\nc c: a | b\n\tt\n\tx \\ y\nifdef A\n\t>a\nd:: ;\n\trm -f x\n\t\\\n\n\nX= = $(s (b) a) $(a\tb)\\\n\t-g\n", AddRecipe None (codes "c") (At 4294967295) (codes "a"), NotMade 1 Absent) ∷  -- recipes-224
    (codes "c: a | b\n>\ttrue\nF += ; \\\n\nX\\\n= x$(a  b) x$(a  b)\\\n\tb\n", AddRecipe None (codes "c") (At 4294967295) (codes "true"), NotMade 1 Absent) ∷  -- recipes-229
    (codes ".RECIPEPREFIX = >\r\nc: a | b\n>true\n># n\n>\ttrue\nendif\n \\\r\n :export\tX += $(s\\) \nc&: a\n\tsay \"q\"\n\trm -rf x\nc c: ;\n\t\\\n\nifdef A\n\ta \\\n\tb\n", RemoveLines (OfRecipe (Some 1) (codes "c") (ByText (codes "# n"))), Accepted 0 1 (span 34 39 [] ∷ []) (Becomes (codes ".RECIPEPREFIX = >\r\nc: a | b\n>true\n>\ttrue\nendif\n \\\r\n :export\tX += $(s\\) \nc&: a\n\tsay \"q\"\n\trm -rf x\nc c: ;\n\t\\\n\nifdef A\n\ta \\\n\tb\n"))) ∷  -- recipes-231
    (codes ".RECIPEPREFIX = >\r\n \r\nd c:\r\nifdef A\r\n\tx \\ y\r\noverride = -O2#-g\r\n", SetRecipe None (codes "c") (ByText (codes ">a")) (codes "true"), NotMade 1 Absent) ∷  -- recipes-236
    (codes "X\\\n::=a\\\\ -O2 -O2# c\nc: a\n\ttrue\n", SetRecipe (Some 1) (codes "c") (ByText (codes "true")) (codes "true"), Accepted 1 1 (span 27 31 (codes "true") ∷ []) (Becomes (codes "X\\\n::=a\\\\ -O2 -O2# c\nc: a\n\ttrue\n"))) ∷  -- recipes-246
    (codes "F::= a \\\n$(A -g) =\\\n\t=\\\n\\\n-g# a \\\\\nF = \\\n \\\n \nc:\nendif\n\ttrue\n\t\ttrue\nF ?= # \\\n d\n", AddRecipe None (codes "c") (At 1) (codes ">a"), Accepted 1 0 (span 49 49 (codes "\t>a\n") ∷ []) (Becomes (codes "F::= a \\\n$(A -g) =\\\n\t=\\\n\\\n-g# a \\\\\nF = \\\n \\\n \nc:\n\t>a\nendif\n\ttrue\n\t\ttrue\nF ?= # \\\n d\n"))) ∷  -- recipes-248
    (codes "d:\n# \\\n n\nelse\n", AddRecipe None (codes "d") (At 1) (codes "a\r"), NotMade 1 (BadArgument field.Line)) ∷  -- recipes-251
    (codes "F::= -g  \\\\\\\n ${c} \nF\\\n::= a $$ -g \nc: # c\nfoo :$(f {):\\\n\t-include2 \t.PHONY | t \ta #\\\\\\\n\n", AddRecipe (Some 0) (codes "c") (At 1) (codes "rm -rf x"), NotMade 1 NoSuch) ∷  -- recipes-252
    (codes "c c: ; true\nF = -g ; \\\n    |\n", SetRecipe None (codes "c") (ByText (codes ">a")) (codes "a"), NotMade 1 Absent) ∷  -- recipes-254
    (codes "\n", SetRecipe None (codes "d") (ByText (codes "a\0")) (codes "b"), NotMade 1 (BadArgument field.Old)) ∷  -- recipes-263
    (codes "d&: ; true\\\n", SetRecipe None (codes "d") (ByText (codes "a # b")) (codes " a"), NotMade 1 Absent) ∷  -- recipes-267
    (codes "F = \\\n\\ \\\n    -g\\\n x$(a  b)\\\n\\\n-g\n%.o: a | b\nendif\noverride:= \n>\nifdef A\nF += a# c\nendif\nc: ;\nF::=-O2 | b \\\n \\\n -g \n\trm -f x\nX =\\\n a \n", SetRecipe None (codes "c") (ByText (codes "\ttrue")) [], NotMade 1 Absent) ∷  -- recipes-268
    (codes "c: a\n\trm -f x\n\t>a\n\t\nc: ;\n>rm -rf x\nelse\n>y\r\n\t\n", SetRecipe (Some 1) (codes "c") (ByText []) (codes ">a"), Accepted 1 1 (span 19 19 (codes ">a") ∷ []) (Becomes (codes "c: a\n\trm -f x\n\t>a\n\t>a\nc: ;\n>rm -rf x\nelse\n>y\r\n\t\n"))) ∷  -- recipes-273
    (codes "F += \nc: a | b\nelse\n>b", SetRecipe None (codes "c") (ByText (codes "a # b")) (codes "a"), NotMade 1 Absent) ∷  -- recipes-281
    (codes "X\\\n= \\\n \\\n $(s (b) a) -O2\t-g\\\n| \\\nx=1 # \\\n d\n#\0\n", AddRecipe (Some 1) (codes "d") (At 4294967295) (codes "rm -f x"), NotMade 1 NoSuch) ∷  -- recipes-284
    (codes "c: ; true\n", SetRecipe None (codes "c") (ByText (codes "ifdef Q")) (codes "true"), NotMade 1 Absent) ∷  -- recipes-287
    (codes "F= a -g\nifdef += a&b\na.b ::=a:b\t-g $\\ a:b\nifdef A\nF = \\\\\n\t\\# \nelse\nF = |\\\n b\nendif\nc c: a\n>\n>t\n", RemoveLines (OfRecipe None (codes "c") (ByText (codes "t"))), NotMade 0 Absent) ∷  -- recipes-289
    (codes "\\\n${c}:: \\\r\n x.o ${g(} \t$(f {)\t\n.RECIPEPREFIX = >\nF := a$\\ \\\r\n =\ta\\\n\ta \\\n \\\n # \\\n d\n", AddRecipe None (codes "${c}") (At 1) (codes "true"), Accepted 1 0 (span 32 32 (codes "\ttrue\n") ∷ []) (Becomes (codes "\\\n${c}:: \\\r\n x.o ${g(} \t$(f {)\t\n\ttrue\n.RECIPEPREFIX = >\nF := a$\\ \\\r\n =\ta\\\n\ta \\\n \\\n # \\\n d\n"))) ∷  -- recipes-294
    (codes "d: ;\n>rm -rf x\n>\nF:=-O2\\\n\t-g# \\\n d\n#\0\n", SetRecipe None (codes "d") (ByText (codes "rm -rf x")) (codes "b"), NotMade 1 Absent) ∷  -- recipes-295
    (codes "X::= -g# \\\n d\nX = |\\\n$#\n \nc: ;\n# n\nendif\nF = a\n", AddRecipe (Some 0) (codes "c") (At 1) [], NotMade 1 NoSuch) ∷  -- recipes-298
    (codes "#\\\\\nF\\\n::= b \\\n \\\n a -O2 # c\nc: # c\nX = \\\r\n = $#\nc: # c\n\tifdef Q\n\ttrue\n\t>a\n\t>a\n", RemoveLines (OfRecipe (Some 1) (codes "c") (ByText (codes "true"))), NotMade 0 Absent) ∷  -- recipes-299
    (codes "%.o: ; true\n\t a\nelse", RemoveLines (OfRecipe None (codes "%.o") (ByText (codes " a"))), Accepted 0 1 (span 12 16 [] ∷ []) (Becomes (codes "%.o: ; true\nelse"))) ∷  -- recipes-306
    (codes "c: ;\nc:\n\t\n\trm -f x\n\t>a", SetRecipe (Some 2) (codes "c") (ByText []) (codes "t"), Accepted 1 1 (span 9 9 (codes "t") ∷ []) (Becomes (codes "c: ;\nc:\n\tt\n\trm -f x\n\t>a"))) ∷  -- recipes-309
    (codes "c:\n>a\\\\\n> a\nifdef A\n>say \"q\"\nF\\\n= b \\\n$# a\\\n\t=  # a \\\\\nX += \nF ?=\\# a \\\n    b $$\n", AddRecipe None (codes "c") (At 1) (codes "say \"q\""), Accepted 1 0 (span 3 3 (codes "\tsay \"q\"\n") ∷ []) (Becomes (codes "c:\n\tsay \"q\"\n>a\\\\\n> a\nifdef A\n>say \"q\"\nF\\\n= b \\\n$# a\\\n\t=  # a \\\\\nX += \nF ?=\\# a \\\n    b $$\n"))) ∷  -- recipes-311
    (codes "c: a\n\trm -f x\n\ta \\\n\tb\n\ta\n\ttrue\n", AddRecipe None (codes "c") (At 2) (codes "t"), Accepted 1 0 (span 14 14 (codes "\tt\n") ∷ []) (Becomes (codes "c: a\n\trm -f x\n\tt\n\ta \\\n\tb\n\ta\n\ttrue\n"))) ∷  -- recipes-312
    (codes ".RECIPEPREFIX = >\n%.o: a\n\t# n\n\tx \\ y\nifdef A\noverride F ?= b#-g\nelse\nX!= ; \\\r\n ;\\\n\t$$ #\nendif\nc c:\n\t a\n\ta", AddRecipe None (codes "c") (At 1) (codes "true"), Accepted 1 0 (span 99 99 (codes ">true\n") ∷ []) (Becomes (codes ".RECIPEPREFIX = >\n%.o: a\n\t# n\n\tx \\ y\nifdef A\noverride F ?= b#-g\nelse\nX!= ; \\\r\n ;\\\n\t$$ #\nendif\nc c:\n>true\n\t a\n\ta"))) ∷  -- recipes-316
    []

answers_2 : map (λ row. account row.0 row.1) rows_2 ≡ map (λ row. row.2) rows_2
answers_2 = refl

abbrev rows_3 : List (List ℕ × Edit × Account)
rows_3 =
    (codes "c: ; true\n\ttrue\n\tt", RemoveLines (OfRecipe None (codes "c") (ByText (codes "t"))), Accepted 0 1 (span 16 18 [] ∷ []) (Becomes (codes "c: ; true\n\ttrue\n"))) ∷  -- recipes-327
    (codes "c: # c", AddRecipe None (codes "c") (At 1) (codes "ifdef Q"), Accepted 1 0 (span 6 6 (codes "\n\tifdef Q\n") ∷ []) (Becomes (codes "c: # c\n\tifdef Q\n"))) ∷  -- recipes-328
    (codes "c::\nelse\n\ta\\\\\n\tsay \"q\"\nF\\\n!=\\\n\ta \nF =$(s (b) a)\\\n\\\na -O2\t-g\t-g\n", AddRecipe None (codes "c") (At 1) (codes "rm -f x"), Accepted 1 0 (span 4 4 (codes "\trm -f x\n") ∷ []) (Becomes (codes "c::\n\trm -f x\nelse\n\ta\\\\\n\tsay \"q\"\nF\\\n!=\\\n\ta \nF =$(s (b) a)\\\n\\\na -O2\t-g\t-g\n"))) ∷  -- recipes-329
    (codes "F +=\t-g# a \\\\\n%.o: a | b\nelse\n# n\n\t# n\n", SetRecipe (Some 2) (codes "%.o") (ByText []) (codes "a"), NotMade 1 NoSuch) ∷  -- recipes-331
    (codes "a.b= a -g  -g\nc: ; true\n", AddRecipe (Some 4294967295) (codes "c") (At 1) (codes "rm -rf x"), NotMade 1 NoSuch) ∷  -- recipes-335
    (codes "c:\n>t\n>true\n", SetRecipe None (codes "c") (ByText []) (codes "say \"q\""), NotMade 1 Absent) ∷  -- recipes-337
    (codes ".RECIPEPREFIX = >\na.b ::=-g#-g\n\nd: ;\n\trm -f x\n\trm -f x\n", AddRecipe None (codes "d") (At 1) (codes "a"), Accepted 1 0 (span 37 37 (codes ">a\n") ∷ []) (Becomes (codes ".RECIPEPREFIX = >\na.b ::=-g#-g\n\nd: ;\n>a\n\trm -f x\n\trm -f x\n"))) ∷  -- recipes-338
    (codes "F\\\n!= ;\\\n\\\n$(a\tb) b\\\n\\\nb  $ \n", AddRecipe None (codes "c") (At 1) (codes "a # b"), NotMade 1 NoSuch) ∷  -- recipes-339
    (codes "c: # c\nendif\n\t# n\n\t>a\n", SetRecipe (Some 1) (codes "c") (ByText (codes "true")) (codes "true"), NotMade 1 Absent) ∷  -- recipes-346
    (codes "X = -g b\\\nx$(a  b) \nc: a\n>a\\\n b\n>true \\\r\n\ttrue\n>t\n> a\nifdef A\nF\\\n!=a $(u\\\n\\\nb# c\nelse\nF\\\n!= -g\ta$  ;#\nendif\nX = a b -g\nF ::= $(u", AddRecipe None (codes "c") (At 2) (codes "rm -f x"), NotMade 1 Absent) ∷  -- recipes-349
    (codes "d:\n\tsay \"q\"\nendif\nifeq (a,b)\n\t# n\ndefine X =\nX!== = -g\nexport X\\\n= a:b\\\n\\\na:b# a \\\\\nX !=a b\\\n\tb #\n", AddRecipe None (codes "d") (At 2) (codes "a"), Accepted 1 0 (span 12 12 (codes "\ta\n") ∷ []) (Becomes (codes "d:\n\tsay \"q\"\n\ta\nendif\nifeq (a,b)\n\t# n\ndefine X =\nX!== = -g\nexport X\\\n= a:b\\\n\\\na:b# a \\\\\nX !=a b\\\n\tb #\n"))) ∷  -- recipes-351
    (codes ".RE;CIPEPREFIX ?= >\r\nF = b ${v a Ã© ", SetRecipe None (codes "c") (ByText (codes "true")) (codes "# n"), NotMade 1 NoSuch) ∷  -- recipes-353
    (codes "F := b\\\n\tb#\nc: # c\n># n\n>rm -rf x\n>true\nendif\n#\\\\\\\n\n", AddRecipe (Some 0) (codes "c") (At 1) (codes "rm -f x"), NotMade 1 NoSuch) ∷  -- recipes-354
    (codes "F= b $\\\\\n\\\n-O2 a# a \\\\\nF!= x=1\nt1 !=\\\n\\\n| \nF := | \\\r\n \\# \\\n \\\n a \\\n-O2 -O2 \nc c:\n\ty\r\n\tx \\ y\nF =$(u\n", SetRecipe None (codes "c") (ByText (codes "x \\ y")) (codes "x \\ y"), Accepted 1 1 (span 86 91 (codes "x \\ y") ∷ []) (Becomes (codes "F= b $\\\\\n\\\n-O2 a# a \\\\\nF!= x=1\nt1 !=\\\n\\\n| \nF := | \\\r\n \\# \\\n \\\n a \\\n-O2 -O2 \nc c:\n\ty\r\n\tx \\ y\nF =$(u\n"))) ∷  -- recipes-356
    (codes "${c}:::${g(} :\t.PHONY\nc: # c\n\t\n\ta # b\n", AddRecipe None (codes "c") (At 1) (codes ">a"), Accepted 1 0 (span 29 29 (codes "\t>a\n") ∷ []) (Becomes (codes "${c}:::${g(} :\t.PHONY\nc: # c\n\t>a\n\t\n\ta # b\n"))) ∷  -- recipes-365
    (codes "F ::=# c\nx.o: ;\nifeq (a,b)\n\trm -f x\n\ttrue \\\r\n\ttrue\n", AddRecipe None (codes "x.o") (At 1) (codes "rm -rf x"), NotMade 1 Straddles) ∷  -- recipes-366
    (codes "c: a\n\t\ttrue\n\t# n\nifdef A\n\tb\nF !=\nF =\t-O2 a# a \\\\\n", AddRecipe None (codes "c") (At 3) (codes "# n"), NotMade 1 Straddles) ∷  -- recipes-368
    (codes "F\\\n=b | \\\r", RemoveLines (OfRecipe None (codes "c") (ByText (codes "say \"q\""))), NotMade 0 NoSuch) ∷  -- recipes-376
    (codes "$(a b)\tb: x.o \t-include2\n", SetRecipe (Some 1) (codes "$(a b)") (ByText (codes "t")) (codes "b"), NotMade 1 Absent) ∷  -- recipes-377
    (codes "X\\\n!= -O2 # a \\\\\nc&: a | b\noverride =\\\n\ta:b#\n", SetRecipe None (codes "c") (ByText (codes "a # b")) (codes "a"), NotMade 1 Absent) ∷  -- recipes-380
    (codes "$(s\\)  %.c: Y :::= \\\r\n  \r\nc&: a\r\n\t\ttrue\r\nd:: # c\r\n\t# n\r\n\t>a", RemoveLines (OfRecipe (Some 0) (codes "c") (ByText (codes "true"))), NotMade 0 NoSuch) ∷  -- recipes-382
    (codes "c: a\n>b\n>t\nX != ;\\\n\t=\n", AddRecipe None (codes "c") (At 4294967295) (codes ">a"), NotMade 1 Absent) ∷  -- recipes-384
    (codes "a.b = b -O2\\\n\t-O2\nifdef A\nX!=\\\n\\\nb\\\n\t-g -g \nelse\nF= a -g  b\nendif\nc include:\nendif\n>a\nifdef A\noverride\\\n= a -g\nelse\noverride override = \nendif\n", RemoveLines (OfRecipe (Some 2) (codes "c") (ByText (codes "# n"))), NotMade 0 NoSuch) ∷  -- recipes-386
    (codes "c&:\nendif\n\ttrue\nifeq (a,b)\nX ?= -O2\\\n x$(a  b) b \\\r\n a# c", AddRecipe None (codes "c") (At 1) (codes "a"), Accepted 1 0 (span 4 4 (codes "\ta\n") ∷ []) (Becomes (codes "c&:\n\ta\nendif\n\ttrue\nifeq (a,b)\nX ?= -O2\\\n x$(a  b) b \\\r\n a# c"))) ∷  -- recipes-388
    (codes "F::= -g -g# a \\\\\n%.o: # c\n\ty\r\n\tb\n\trm -rf x\nifdef A\nF += $(A -g)\nendif\nc: a\n>rm -f x\n>true \\\r\n\ttrue\n>rm -rf x\\", AddRecipe None (codes "c") (At 1) [], Accepted 1 0 (span 75 75 (codes "\t\n") ∷ []) (Becomes (codes "F::= -g -g# a \\\\\n%.o: # c\n\ty\r\n\tb\n\trm -rf x\nifdef A\nF += $(A -g)\nendif\nc: a\n\t\n>rm -f x\n>true \\\r\n\ttrue\n>rm -rf x\\"))) ∷  -- recipes-391
    (codes "\\\n\t\nc&: ; true\nifeq (a,b)\n\t# n\nelse\nF\\\n!= | x=1\\\na\n", AddRecipe None (codes "c") (At 1) (codes "true"), NotMade 1 Straddles) ∷  -- recipes-398
    (codes "c:\n>t\nifeq (a,b)\n>say \"q\"\nc d: a\n\tx \\ y\nifdef A\nifdef A", AddRecipe (Some 2) (codes "c") (At 2) [], Accepted 1 0 (span 40 40 (codes "\t\n") ∷ []) (Becomes (codes "c:\n>t\nifeq (a,b)\n>say \"q\"\nc d: a\n\tx \\ y\n\t\nifdef A\nifdef A"))) ∷  -- recipes-401
    (codes "c&: ; true\n>a\\\\\n>ifdef Q\nifdef A\nF = = a\\ \\\n $(s (b) a) b # \\\n d\nendif\nF = a\r", AddRecipe (Some 4294967295) (codes "c") (At 1) (codes "rm -rf x"), NotMade 1 NoSuch) ∷  -- recipes-403
    (codes "c:", RemoveLines (OfRecipe (Some 0) (codes "c") (ByText [])), NotMade 0 NoSuch) ∷  -- recipes-404
    (codes "d:: ;\r\nifdef A\r\n\trm -rf x\r\n\ta", AddRecipe (Some 2) (codes "d") (At 1) (codes "b"), NotMade 1 NoSuch) ∷  -- recipes-405
    (codes " export private define .RECIPEPREFIX\nexport a.b!= | ${c}# \\\n d\n", RemoveLines (OfRecipe None (codes "c") (ByText (codes "ifdef Q"))), NotMade 0 RecipePrefix) ∷  -- recipes-406
    (codes "c:\n\tsay \"q\"\n\ta \\\n\tb\n\tx \\ y\n\t# n\n \\\n\nc: ; true\n\ta # b\n\ttrue\n\ttrue\nendif\n", AddRecipe None (codes "c") (At 1) (codes "\ttrue"), NotMade 1 (Ambiguous 2)) ∷  -- recipes-407
    (codes "X = ; a$ \\\n\t-O2\t\nc:: a\nendif\n\ta\nc: a\nelse\n>a\n>a # b\n", RemoveLines (OfRecipe (Some 1) (codes "c") (ByText (codes "a"))), NotMade 0 Absent) ∷  -- recipes-408
    (codes "F::= -O2 a:b = \nX = a a:b \\\n \\\n $x\ninclude: # c\n.RECIPEPREFIX = >\ndefine=$ $\\\\\n =\n", AddRecipe None (codes "include") (At 1) (codes "ifdef Q"), NotMade 1 Reserved) ∷  -- recipes-409
    (codes "F\\\n=a\\\n | # a \\\\\nd: a | b\noverride F = -g b $# b \\\n    \n\trm -rf x\n \\\n\n#:\t?\nd c&: a\n # n\n>a # b\n>t\n", RemoveLines (OfRecipe None (codes "c") (ByText (codes "true"))), NotMade 0 Absent) ∷  -- recipes-410
    (codes "x.o:\nF= b = # a \\\\\nifdef A\nF\\\n::= a\\$\\\n -O2 ${c}\\\n\nelse\nF ?= b\\\n\t-g a $$ \nendif\nc::\n\ttrue\n\tb\nd: ;\n\ta\n", AddRecipe None (codes "d") (At 2) (codes "b"), Accepted 1 0 (span 101 101 (codes "\tb\n") ∷ []) (Becomes (codes "x.o:\nF= b = # a \\\\\nifdef A\nF\\\n::= a\\$\\\n -O2 ${c}\\\n\nelse\nF ?= b\\\n\t-g a $$ \nendif\nc::\n\ttrue\n\tb\nd: ;\n\ta\n\tb\n"))) ∷  -- recipes-411
    (codes "c: a\n\ta # b\n", AddRecipe (Some 0) (codes "c") (At 1) (codes "\ttrue"), NotMade 1 NoSuch) ∷  -- recipes-412
    (codes "c: a | b\nF\\\n::= $(s (b) a) \\\n-O2 \nF != ; b", SetRecipe None (codes "c") (ByText (codes "x \\ y")) (codes ">a"), NotMade 1 Absent) ∷  -- recipes-415
    (codes "c:: # c\n\t\n\ttrue\n\t# n\n\ta # b\nF\\\n= a:b  -O2#-g\nc: # c\nendif\n\ta\n", SetRecipe (Some 2) (codes "c") (ByText (codes "say \"q\"")) (codes "true"), NotMade 1 Absent) ∷  -- recipes-417
    (codes "d&: a | b\nifeq (a,b)\n\tifdef Q\nX= a$\\ $  b \\\n    -O2\n", AddRecipe None (codes "d") (At 4294967295) (codes "true"), NotMade 1 Absent) ∷  -- recipes-418
    (codes "ifdef A\nexport F =\\\n -O2 \\\r\n -g \\\n    -g $(t \\\n -g) \\\n \\\n ;\nelse\nX = -g a#-g\nendif\nc: a", RemoveLines (OfRecipe None (codes "c") (ByText (codes "\ttrue"))), NotMade 0 Absent) ∷  -- recipes-423
    (codes "override F= $(s (b) a)\t${c} \n", RemoveLines (OfRecipe None (codes "c") (ByText (codes "true"))), NotMade 0 NoSuch) ∷  -- recipes-426
    (codes "c %.o:: a\n\ttrue\nelse\n\tsay \"q\"\n", RemoveLines (OfRecipe None (codes "%.o") (ByText (codes "true"))), Accepted 0 1 (span 10 16 [] ∷ []) (Becomes (codes "c %.o:: a\nelse\n\tsay \"q\"\n"))) ∷  -- recipes-430
    (codes "c: a | b\n\ta\\\n>b\n\ta\n\t\n\tsay \"q\"\nF =${c} -O2\\\n\tb\n.RECIPEPREFIX = $x\n \\\n\t$(s\\): ${g(} \na.b+= a:b\\\n\t-g\\\na:b\n", SetRecipe None (codes "$(s\\)") (ByText (codes "a # b")) (codes "rm -rf x"), NotMade 1 RecipePrefix) ∷  -- recipes-431
    (codes "c d: a | b\n\tb\n", AddRecipe None (codes "d") (At 1) (codes "# n"), Accepted 1 0 (span 11 11 (codes "\t# n\n") ∷ []) (Becomes (codes "c d: a | b\n\t# n\n\tb\n"))) ∷  -- recipes-433
    (codes "c!:: ;\n", AddRecipe None (codes "c!") (At 4294967295) (codes "rm -rf x"), NotMade 1 Absent) ∷  -- recipes-434
    (codes "c: a\n\trm -f x\nb\n\t\n", RemoveLines (OfRecipe None (codes "c") (ByText (codes "rm -f x"))), Accepted 0 1 (span 5 14 [] ∷ []) (Becomes (codes "c: a\nb\n\t\n"))) ∷  -- recipes-439
    (codes "ifdef A\r\nF\\\r\n=;\\\r\n\\\r\nb\t;\r\nelse\r\nF= $(a\tb) a:b \r\nendif\r\nF\\\r\n+= a x$(a  b)\r\nd:\r\n\t\r\n", RemoveLines (OfRecipe None (codes "d") (ByText [])), Accepted 0 1 (span 78 81 [] ∷ []) (Becomes (codes "ifdef A\r\nF\\\r\n=;\\\r\n\\\r\nb\t;\r\nelse\r\nF= $(a\tb) a:b \r\nendif\r\nF\\\r\n+= a x$(a  b)\r\nd:\r\n"))) ∷  -- recipes-440
    (codes "X+= $  -g a x=1 -g", RemoveLines (OfRecipe (Some 0) (codes "c") (ByText (codes "t"))), NotMade 0 NoSuch) ∷  -- recipes-444
    (codes "x.o: a\n\tx \\ y\n\t a\n", AddRecipe None (codes "x.o") (At 4294967295) (codes "t"), NotMade 1 Absent) ∷  -- recipes-447
    []

answers_3 : map (λ row. account row.0 row.1) rows_3 ≡ map (λ row. row.2) rows_3
answers_3 = refl

abbrev rows_4 : List (List ℕ × Edit × Account)
rows_4 =
    (codes "include: # c\nifeq (a,b)\n\t a\nendif\n\t# n\n", AddRecipe (Some 0) (codes "c") (At 1) (codes " a"), NotMade 1 NoSuch) ∷  -- recipes-452
    (codes "c&:\r\n\t# n\r\nelse\r\n\ttrue\r\nifdef A\r\nc: a\r\n\tt\r\n\r\nd: a | b\r\n \r\n # n\r\n\tifdef Q\r\n\t\ttrue", RemoveLines (OfRecipe None (codes "d") (ByText (codes "ifdef Q"))), Accepted 0 1 (span 64 74 [] ∷ []) (Becomes (codes "c&:\r\n\t# n\r\nelse\r\n\ttrue\r\nifdef A\r\nc: a\r\n\tt\r\n\r\nd: a | b\r\n \r\n # n\r\n\t\ttrue"))) ∷  -- recipes-453
    (codes "x.o: a\n\t a\n\tt\n\ta\nc:: ; true\nF = ${c} \\\n \\\n $(A -g) Ã© = b \nelse\n\tifdef Q\noverride!= a:b b\n", AddRecipe None (codes "x.o") (At 4) [], Accepted 1 0 (span 17 17 (codes "\t\n") ∷ []) (Becomes (codes "x.o: a\n\t a\n\tt\n\ta\n\t\nc:: ; true\nF = ${c} \\\n \\\n $(A -g) Ã© = b \nelse\n\tifdef Q\noverride!= a:b b\n"))) ∷  -- recipes-461
    (codes "c:\n\ttrue\n\tifdef Q\n\tt\n\tb\n-x_9 \\\n  ::= \\\r\n \r \\$x t # \\\noverride+= -g# \\\n d\nF!= a \n", AddRecipe None (codes "d") (At 1) (codes "true"), NotMade 1 NoSuch) ∷  -- recipes-463
    (codes "%.o c: # c\n\ttrue\n\ta\n\ta\nF =  \nX\\\n:= b\t| \nifdef A\nF= a#-g\nelse\nX\\\n?=$(u# \\\n d\nendif", RemoveLines (OfRecipe None (codes "c") (ByText [])), NotMade 0 Absent) ∷  -- recipes-465
    (codes "ifdef A\r\nF\\\n?= $(w \\\n a) \nelse\nF += a ${c} -g a\nendif\nc c: a | b\nX\\\n::=  ", RemoveLines (OfRecipe None (codes "c") (ByText (codes "x \\ y"))), NotMade 0 Absent) ∷  -- recipes-467
    (codes "export F+= -g  a:b x=1 -g \\\n    b \\\n    # c\noverride X\\\n+= -g =\\\n\\\n\\ b -g b\nF+= -g\nX =  \nc: ; true\n\t a\n", SetRecipe None (codes "c") (ByText (codes " a")) (codes "a # b"), Accepted 1 1 (span 100 102 (codes "a # b") ∷ []) (Becomes (codes "export F+= -g  a:b x=1 -g \\\n    b \\\n    # c\noverride X\\\n+= -g =\\\n\\\n\\ b -g b\nF+= -g\nX =  \nc: ; true\n\ta # b\n"))) ∷  -- recipes-473
    (codes "x.o: ; true\n\t\ttrue\nd: ; true\n>a # b\n>\ttrue\n>a # b\n>a # b\ninclude&: a\n>a # b\n# n\nifeq (a,b)", RemoveLines (OfRecipe None (codes "x.o") (ByText (codes "\ttrue"))), Accepted 0 1 (span 12 19 [] ∷ []) (Becomes (codes "x.o: ; true\nd: ; true\n>a # b\n>\ttrue\n>a # b\n>a # b\ninclude&: a\n>a # b\n# n\nifeq (a,b)"))) ∷  -- recipes-475
    (codes "ifdef A\nF= -O2 \\\nx$(a  b)\nendif", RemoveLines (OfRecipe None (codes "c") (ByText (codes "a"))), NotMade 0 NoSuch) ∷  -- recipes-477
    (codes "c&: ; true\r\n>b\r\n>true\r\nelse\r\noverride = b\\\r\n\\\r\n\\ \\\r\nb \\\r\n\r\nifdef A\r\nexport F := a -O2\r\nelse\r\nF!= -g\\\r\n ${v a\r\nendif\r\nF != a:b \\\r\n=\\\r\n\tb $(t \\\r\n -g) |\\\r\n# \\\r\n d\r\nd: a | b\r\n\t>a\r\n\ty\r\n\trm -rf x\r\n\trm -rf x ", RemoveLines (OfRecipe None (codes "d") (ByText (codes ">a"))), Accepted 0 1 (span 171 176 [] ∷ []) (Becomes (codes "c&: ; true\r\n>b\r\n>true\r\nelse\r\noverride = b\\\r\n\\\r\n\\ \\\r\nb \\\r\n\r\nifdef A\r\nexport F := a -O2\r\nelse\r\nF!= -g\\\r\n ${v a\r\nendif\r\nF != a:b \\\r\n=\\\r\n\tb $(t \\\r\n -g) |\\\r\n# \\\r\n d\r\nd: a | b\r\n\ty\r\n\trm -rf x\r\n\trm -rf x "))) ∷  -- recipes-482
    (codes "include: # c\n\tifdef Q\n\t>a\n\ttrue\n", AddRecipe None (codes "include") (At 2) (codes "rm -rf x"), NotMade 1 Reserved) ∷  -- recipes-484
    (codes "a.b = a$ \n", AddRecipe None (codes "d") (At 1) (codes "true"), NotMade 1 NoSuch) ∷  -- recipes-488
    (codes "a &: ${g(} $x  a \\\r\n\r\n", AddRecipe None (codes "c") (At 1) (codes ">a"), NotMade 1 NoSuch) ∷  -- recipes-491
    (codes "c: ; true\n\ta\n\t\nc:\n \n\tb\n\ttrue", SetRecipe (Some 2) (codes "c") (ByText (codes "b")) (codes "b"), Accepted 1 1 (span 21 22 (codes "b") ∷ []) (Becomes (codes "c: ; true\n\ta\n\t\nc:\n \n\tb\n\ttrue"))) ∷  -- recipes-493
    (codes "define F \\\n\n", SetRecipe (Some 1) (codes "c") (ByText (codes "b")) (codes "a"), NotMade 1 NoSuch) ∷  -- recipes-494
    (codes "X ::= a $$ ", SetRecipe None (codes "c") (ByText (codes "rm -rf x")) (codes "true"), NotMade 1 NoSuch) ∷  -- recipes-495
    (codes "ifdef A\nX\\\n= a \\\r\n x=1 $x\\\na\\\n\\\nb#\nendif\nF ::= a:b\nX\\\n?= a $x ;\nc:\nc: # c\nendif\n>\ttrue\n>a\n> a", AddRecipe (Some 2) (codes "c") (At 1) (codes "b"), Accepted 1 0 (span 74 74 (codes "\tb\n") ∷ []) (Becomes (codes "ifdef A\nX\\\n= a \\\r\n x=1 $x\\\na\\\n\\\nb#\nendif\nF ::= a:b\nX\\\n?= a $x ;\nc:\nc: # c\n\tb\nendif\n>\ttrue\n>a\n> a"))) ∷  -- recipes-496
    (codes "ifd?ef\\\n\\\n:= \\\n1\\b (a b) # c\nx.o: # c\nF =| -g -O2 ${c\\\n|\n # \\\nd: # c\n\tx \\ y\n\tifdef Q\n\ta # b\n", AddRecipe (Some 2) (codes "x.o") (At 1) (codes "rm -f x"), NotMade 1 NoSuch) ∷  -- recipes-505
    (codes "c:: ;\n\trm-fbx\n\ta\\\n b\n\tsay \"q\"", SetRecipe None (codes "%.o") (ByText (codes "rm -rf x")) (codes "\ttrue"), NotMade 1 NoSuch) ∷  -- recipes-506
    (codes "c x.o: a | b\n# \\\n n\n\tb\n\t a\n", AddRecipe None (codes "x.o") (At 2) (codes "a"), Accepted 1 0 (span 23 23 (codes "\ta\n") ∷ []) (Becomes (codes "c x.o: a | b\n# \\\n n\n\tb\n\ta\n\t a\n"))) ∷  -- recipes-507
    (codes "F\\\n!= b a:b \\\n \\\n -g -g \\\n-g\\\n # a \\\\\nF\\\n= \n", AddRecipe None (codes "c") (At 1) (codes "rm -rf x"), NotMade 1 NoSuch) ∷  -- recipes-508
    (codes "F :=\\\r\n\\\n-g# a \\\\\nF= b $\\\n\\\n\\\n#\n", RemoveLines (OfRecipe None (codes "c") (ByText (codes "true"))), NotMade 0 NoSuch) ∷  -- recipes-509
    (codes "F = $(s (b) a)# c\noverride = #\nc: a\nexport F\\\n+=$(t \\\n -g)\tx$(a  b) a -g\\\n\t-g\n>a # b", SetRecipe None (codes "c") (ByText (codes "\ttrue")) (codes "true"), NotMade 1 Absent) ∷  -- recipes-513
    (codes "override override!= $(a b)\nF\\\n!= a a\nc&: # c\n>a # b\nF\\\n!= $\\ $(u\n", AddRecipe None (codes "c") (At 2) (codes "a"), NotMade 1 Absent) ∷  -- recipes-519
    (codes "c: a | b\nF = ; a $\\\nF = b\\\n\t\\\\\\\\ ", SetRecipe None (codes "c") (ByText (codes "x \\ y")) (codes " a"), NotMade 1 Absent) ∷  -- recipes-521
    (codes "a.b += \\\\\\\\\nF ?=b a:b $(s (b) a) -g\t-g\nc: # c\n>>a\n>a\nF= ;\n${v: $(a b) \\\n \\\n :$(s\\)\ta&b\tx.o\t", RemoveLines (OfRecipe None (codes "%.o") (ByText (codes "x \\ y"))), NotMade 0 NoSuch) ∷  -- recipes-524
    (codes "c:\n\ta\\\n>b\n\t\noverride F\\\n=a ", AddRecipe None (codes "c") (At 1) [], Accepted 1 0 (span 3 3 (codes "\t\n") ∷ []) (Becomes (codes "c:\n\t\n\ta\\\n>b\n\t\noverride F\\\n=a "))) ∷  -- recipes-529
    (codes "ifdef A\na.b?=-g \nelse\noverride F !=\\\n\\\na:b\\\n\tb\\\n -g b\nendif\nF\\\n= b x$(a  b)\nc&: ;\nendif\n\trm -f x\n\ttrue\nF\\\n= $(A -g)  a:b a\\\n\\\na\\  ;# c\nF = \\\n \\\n $(s (b) a) -g \\\n \\\n -O2 $(a\tb)\\\n\\\nb# c\\", RemoveLines (OfRecipe None (codes "c") (ByText [])), NotMade 0 Absent) ∷  -- recipes-532
    (codes "c:\n\tsay \"q\"\n\ta # b\n", SetRecipe (Some 0) (codes "c") (ByText (codes ">a")) (codes "true"), NotMade 1 NoSuch) ∷  -- recipes-538
    (codes "F = -g a:b\nx.o c: a | b\n \n", RemoveLines (OfRecipe None (codes "x.o") (ByText (codes "rm -rf x"))), NotMade 0 Absent) ∷  -- recipes-544
    (codes "c:: a\n\ta\nF\\\n?=\\\n\\\n$x# \\\n d\nexport F+= a # \\\n d\nX =-g | \\\n$(t \\\n -g) -O2\nx.o: a | b\n\ta\n \\\n", RemoveLines (OfRecipe (Some 4294967295) (codes "x.o") (ByText (codes "b"))), NotMade 0 NoSuch) ∷  -- recipes-545
    (codes "c: ;\r\n\t>a\r\n\ta", RemoveLines (OfRecipe None (codes "c") (ByText (codes "a"))), Accepted 0 1 (span 11 13 [] ∷ []) (Becomes (codes "c: ;\r\n\t>a\r\n"))) ∷  -- recipes-547
    (codes "F::= -g\n", RemoveLines (OfRecipe None (codes "c") (ByText (codes "x \\ y"))), NotMade 0 NoSuch) ∷  -- recipes-548
    (codes "X\\\n?= ${v a b\t;# a \\\\\nF = x=1 \\\r\n a a\\\\\n", SetRecipe (Some 0) (codes "x.o") (ByText (codes "a")) (codes "x \\ y"), NotMade 1 NoSuch) ∷  -- recipes-549
    (codes "ifdef A\r\noverride=-O2 $(A -g)# a \\\\\nelse\nF\\\n= -g\t$x \nendif\nifdef A\nF := \\\n    a a a#-g\nendif\n.RECIPEPREFIX = >\nx.o: ; true\n", RemoveLines (OfRecipe None (codes "x.o") (ByText (codes "true"))), NotMade 0 Absent) ∷  -- recipes-550
    (codes "d: # c\r\nY:= x.o \r\nc: a\r\n>true\r\n>a\r\nife(a,b)\r\n>>a\r\nX=\tÃ© -g\\\r\n\ta\r\nF =${v a \\\r\n -g = ", AddRecipe None (codes "d") (At 1) (codes "rm -rf x"), Accepted 1 0 (span 8 8 (codes "\trm -rf x\r\n") ∷ []) (Becomes (codes "d: # c\r\n\trm -rf x\r\nY:= x.o \r\nc: a\r\n>true\r\n>a\r\nife(a,b)\r\n>>a\r\nX=\tÃ© -g\\\r\n\ta\r\nF =${v a \\\r\n -g = "))) ∷  -- recipes-552
    (codes "F = -g\nX += b b\\\n\t-g# a \\\\\n# \r\nF\\\n::= $(s (b) a)\\\n\tx=1 $(w \\\n a) ;# c\n", RemoveLines (OfRecipe (Some 4294967295) (codes "include") (ByText (codes ">a"))), NotMade 0 Reserved) ∷  -- recipes-553
    (codes "x.o&: a\nendif\n\t>a\noverride\\\n= a a ; \\\r\n b -g\nc&: ; true\n\trm -f x\n\tt\n ", SetRecipe None (codes "x.o") (ByText (codes "a")) [], NotMade 1 Absent) ∷  -- recipes-554
    (codes "a.b =; a a\\  \\\r\n= ", RemoveLines (OfRecipe (Some 0) (codes "d") (ByText (codes "a"))), NotMade 0 NoSuch) ∷  -- recipes-563
    (codes "d&: a\nF\\\n+= -g $# b#\n", AddRecipe None (codes "d") (At 1) (codes "a # b"), Accepted 1 0 (span 6 6 (codes "\ta # b\n") ∷ []) (Becomes (codes "d&: a\n\ta # b\nF\\\n+= -g $# b#\n"))) ∷  -- recipes-564
    (codes "\\\n#\nc: ;\n\trm -f x\n\tsay \"q\"\n# n\n\ttrue\n", RemoveLines (OfRecipe None (codes "c") (ByText (codes "rm -f x"))), Accepted 0 1 (span 9 18 [] ∷ []) (Becomes (codes "\\\n#\nc: ;\n\tsay \"q\"\n# n\n\ttrue\n"))) ∷  -- recipes-565
    (codes "F= \\\\\\\\# c\nifdef A\nF\\\n::= a\\  -O2 # \\\n d\nelse\nF = \\\\ \\\r\n -O2#-g\nendif\nc: ; true\nF\\\n=b b\\\n a\nelse\n\ta", AddRecipe None (codes "c") (At 1) (codes "# n"), Accepted 1 0 (span 80 80 (codes "\t# n\n") ∷ []) (Becomes (codes "F= \\\\\\\\# c\nifdef A\nF\\\n::= a\\  -O2 # \\\n d\nelse\nF = \\\\ \\\r\n -O2#-g\nendif\nc: ; true\n\t# n\nF\\\n=b b\\\n a\nelse\n\ta"))) ∷  -- recipes-566
    (codes "ifdef A\nF+=\t\nendif\noverride = \ninclude: a | b\n\ttrue\n\ta\n\ta\n", AddRecipe None (codes "include") (At 3) (codes "x \\ y"), NotMade 1 Reserved) ∷  -- recipes-570
    (codes "F ::= \\\n \\\n -g x\\\n1\\\n\\\na\\  x=1 ; \nF =\\\n\t-g \nc: ; true\n \nc: # c\n\ttrue\n\ta # b\n\ts$  \"q\"\n>", SetRecipe (Some 2) (codes "c") (ByText (codes "a # b")) (codes "a\\"), NotMade 1 (BadArgument field.Line)) ∷  -- recipes-571
    (codes "F?= a\\\\ b -g \\\r\n$(w \\\r\n a) \\\r\n \\\r\n b\r\n\t\\\r\n$(f {)   &: b \r\nifdef A\r\nF !=\\\r\n-O2  b# a \\\\\r\nelse\r\noverride\\\r\n+=\\\r\n b  a \\\r\nb #-g\r\nendif\r\nx.o: a | b\r\n \r\nF= \\ a# a \\\\\r\n", AddRecipe None (codes "x.o") (At 1) (codes "b"), Accepted 1 0 (span 145 145 (codes "\tb\r\n") ∷ []) (Becomes (codes "F?= a\\\\ b -g \\\r\n$(w \\\r\n a) \\\r\n \\\r\n b\r\n\t\\\r\n$(f {)   &: b \r\nifdef A\r\nF !=\\\r\n-O2  b# a \\\\\r\nelse\r\noverride\\\r\n+=\\\r\n b  a \\\r\nb #-g\r\nendif\r\nx.o: a | b\r\n\tb\r\n \r\nF= \\ a# a \\\\\r\n"))) ∷  -- recipes-574
    (codes "A !=\\\r\n\\\n\nc: a | b\n>y\r\n>true\n>\nF=$(a b) #", AddRecipe (Some 1) (codes "c") (At 1) (codes "# n"), Accepted 1 0 (span 19 19 (codes "\t# n\r\n") ∷ []) (Becomes (codes "A !=\\\r\n\\\n\nc: a | b\n\t# n\r\n>y\r\n>true\n>\nF=$(a b) #"))) ∷  -- recipes-577
    (codes ".RECIPEPREFIX = >\r\nd: ; true\n\n\ttrue\nF= x$(a  b)\\\n$(a\tb)# a \\\\\nifdef A\nF = b\\\n -g\\\n-g \nendif\nd: a\n>rm -rf x\na.b = a \\\r\n $(w \\\n a) ;", AddRecipe (Some 2) (codes "d") (At 2) [], Accepted 1 0 (span 107 107 (codes ">\r\n") ∷ []) (Becomes (codes ".RECIPEPREFIX = >\r\nd: ; true\n\n\ttrue\nF= x$(a  b)\\\n$(a\tb)# a \\\\\nifdef A\nF = b\\\n -g\\\n-g \nendif\nd: a\n>rm -rf x\n>\r\na.b = a \\\r\n $(w \\\n a) ;"))) ∷  -- recipes-579
    (codes "X ?= \nc %.o:: ; true\n>\\\n\n>true\n \n", RemoveLines (OfRecipe None (codes "%.o") (ByText (codes "a"))), NotMade 0 Absent) ∷  -- recipes-583
    (codes "c:\n\na.b := -O2\n\tx \\ y\nc: a | b\n\ttrue \\\r\n\ttrue\n\t\\\n\n\tx \\ y\nendif\noverride\\\n=  \n", RemoveLines (OfRecipe (Some 1) (codes "c") (ByText (codes "# n"))), NotMade 0 Absent) ∷  -- recipes-584
    (codes "c: a | b\n\t\ttrue\n\ty\r\n\ty\r\nF\\\n= b | \\\n \\\n b \nd:\nifdef A\n>\n", RemoveLines (OfRecipe None (codes "c") (ByText (codes "x \\ y"))), NotMade 0 Absent) ∷  -- recipes-587
    []

answers_4 : map (λ row. account row.0 row.1) rows_4 ≡ map (λ row. row.2) rows_4
answers_4 = refl

abbrev rows_5 : List (List ℕ × Edit × Account)
rows_5 =
    (codes ".RECIPEPREFIX = >\nX\\\n::= -O2\\\n\t$$\nd: a | b\n\trm -f x\n\tsay \"q\"\nF ::= -g $(t \\\n -g) $\\ \\\n \\\n a a:b \n\t \nd: a\n# \\\n n\n\tb\n", SetRecipe None (codes "d") (ByText (codes "# n")) (codes "# n"), NotMade 1 (Ambiguous 2)) ∷  -- recipes-589
    (codes "c:: a\n \n\tsay \"q\"\n # n\n\t\n\t \noverride F = | \\\nb a\nc: # c\n\tsay \"q\"\n\ta\n\ta\\\n>b\n\t a\nF= a\n", SetRecipe (Some 1) (codes "c") (ByText (codes " ")) (codes "say \"q\""), Accepted 1 1 (span 25 26 (codes "say \"q\"") ∷ []) (Becomes (codes "c:: a\n \n\tsay \"q\"\n # n\n\t\n\tsay \"q\"\noverride F = | \\\nb a\nc: # c\n\tsay \"q\"\n\ta\n\ta\\\n>b\n\t a\nF= a\n"))) ∷  -- recipes-590
    (codes "export F-g |-g\\\r\n\na:b# \\\r\n d", AddRecipe None (codes "a") (At 1) (codes "a # b"), Accepted 1 0 (span 28 28 (codes "\r\n\ta # b\r\n") ∷ []) (Becomes (codes "export F-g |-g\\\r\n\na:b# \\\r\n d\r\n\ta # b\r\n"))) ∷  -- recipes-596
    (codes "c&: a | b\n\tsay \"q\"\n\t# n\noverride ::= -O2 \\\n \\\n |\n", SetRecipe None (codes "c") (ByText (codes "say \"q\"")) (codes "true"), Accepted 1 1 (span 11 18 (codes "true") ∷ []) (Becomes (codes "c&: a | b\n\ttrue\n\t# n\noverride ::= -O2 \\\n \\\n |\n"))) ∷  -- recipes-603
    (codes "ifdef A\nF := a:b\\\n $(a b)#-g\nelse\nX := \\#\\\n$(w \\\n a)\\\n \nendif\n", AddRecipe None (codes "d") (At 1) (codes "a\r"), NotMade 1 (BadArgument field.Line)) ∷  -- recipes-605
    (codes "c: ; true\n\tsay \"q\"\n \n\t>a\nc c: ;\n\ta \\\n\tb\n\tifdef Q\n\trm -f x\n\ta # b", AddRecipe (Some 2) (codes "c") (At 5) [], Accepted 1 0 (span 64 64 (codes "\n\t\n") ∷ []) (Becomes (codes "c: ; true\n\tsay \"q\"\n \n\t>a\nc c: ;\n\ta \\\n\tb\n\tifdef Q\n\trm -f x\n\ta # b\n\t\n"))) ∷  -- recipes-607
    (codes "c: a | b\n\trm -rf x", RemoveLines (OfRecipe None (codes "c") (ByText (codes "rm -rf x"))), Accepted 0 1 (span 9 18 [] ∷ []) (Becomes (codes "c: a | b\n"))) ∷  -- recipes-611
    (codes "\nd x.o: ; true\n", RemoveLines (OfRecipe None (codes "d") (ByText (codes "true"))), NotMade 0 Absent) ∷  -- recipes-612
    (codes "F != $# \\\r\n = x=1 a\\\r\n-g \r\nF ?=a $(t \\\r\n -g) $(t \\\r\n -g)\r\ndefine+= 1\r\nc: a | b\r\n\tsay \"q\"\r\n\ta\r\n # n\r\n\t a\r\n\t ", SetRecipe None (codes "c") (ByText (codes " a")) (codes "a"), Accepted 1 1 (span 101 103 (codes "a") ∷ []) (Becomes (codes "F != $# \\\r\n = x=1 a\\\r\n-g \r\nF ?=a $(t \\\r\n -g) $(t \\\r\n -g)\r\ndefine+= 1\r\nc: a | b\r\n\tsay \"q\"\r\n\ta\r\n # n\r\n\ta\r\n\t "))) ∷  -- recipes-613
    (codes "F+= $(w \\\n a)  -g\t-g # \\\n d\nF = $(A -g) -g\nc: # c\noverride X ?= $(t \\\n -g)\t-g a b\\\n-g# \\\n d\n", AddRecipe None (codes "c") (At 1) (codes "true"), Accepted 1 0 (span 50 50 (codes "\ttrue\n") ∷ []) (Becomes (codes "F+= $(w \\\n a)  -g\t-g # \\\n d\nF = $(A -g) -g\nc: # c\n\ttrue\noverride X ?= $(t \\\n -g)\t-g a b\\\n-g# \\\n d\n"))) ∷  -- recipes-614
    (codes "define D\nc:\n>a\n>\ttrue\nF= -O2 \n", RemoveLines (OfRecipe None (codes "x.o") (ByText (codes "\ttrue"))), NotMade 0 NoSuch) ∷  -- recipes-615
    (codes "c: a\r\n\ta\\\\\r\n\r\n", RemoveLines (OfRecipe None (codes "c") (ByText (codes "a\\\\"))), NotMade 0 (BadArgument field.Old)) ∷  -- recipes-616
    (codes ".RECIPEPREFIX = >\nc: a | b\n>t\nexport X !=$# | -g  a:b $x \\\n\nc::\n\tsay \"q\"\n\tx \\ y\nF\\\n+= ; \n", RemoveLines (OfRecipe (Some 1) (codes "c") (ByText (codes "x \\ y"))), NotMade 0 Absent) ∷  -- recipes-618
    (codes ".RECIPEPREFIX = >\nd: # c\n\ta\n\ttrue\n\t# n\n", AddRecipe None (codes "d") (At 1) (codes "rm -f x"), Accepted 1 0 (span 25 25 (codes ">rm -f x\n") ∷ []) (Becomes (codes ".RECIPEPREFIX = >\nd: # c\n>rm -f x\n\ta\n\ttrue\n\t# n\n"))) ∷  -- recipes-620
    (codes "F =\nF += a\\\n b -O2 ", RemoveLines (OfRecipe None (codes "c") (ByText (codes "# n"))), NotMade 0 NoSuch) ∷  -- recipes-621
    (codes "include: ; true\n\ttrue\nendif\n\tifdef Q\n$(s\\) \ta&b&::%.c $(q:;=|)\\\n| a\t$(q:;=|) \n", AddRecipe None (codes "include") (At 1) (codes "true"), NotMade 1 Reserved) ∷  -- recipes-625
    (codes "ifdef A\r\nF?=; $(a b)\\\r\n\\\r\na:b\\\r\n\t$(u# \\\r\n d\r\nelse\r\nexport X ::=$(a b)\r\nendif\r\nF\\\r\n?= a:b\\\r\n -g\r\ninclude: # c\r\n># n\\\n", SetRecipe (Some 0) (codes "include") (ByText (codes "# n")) (codes "ifdef Q"), NotMade 1 Reserved) ∷  -- recipes-627
    (codes "d: a | b\n# \\\n \0n\n\trm -f x\n \r(=|\0\nF += $(+a\tb)\\\n\t-O2 a # c\n", SetRecipe (Some 4294967295) (codes "d") (ByText (codes "b")) (codes "# n"), NotMade 1 NoSuch) ∷  -- recipes-630
    (codes "c: ;\n\tt\nelse", AddRecipe (Some 1) (codes "c") (At 2) (codes "# n"), Accepted 1 0 (span 8 8 (codes "\t# n\n") ∷ []) (Becomes (codes "c: ;\n\tt\n\t# n\nelse"))) ∷  -- recipes-632
    (codes "X ::= \\\r\n $\\\t$  \\\n \\\n $(u \\\n$(a b)#-g\noverride= $\\ \nc:: a | b\n\tifdef Q\n\tt\n\ta\nc&: a\n\ta\n # n\n", AddRecipe None (codes "c") (At 0) (codes "# n"), NotMade 1 (Ambiguous 2)) ∷  -- recipes-640
    (codes "c&:\n\t\ttrue", RemoveLines (OfRecipe None (codes "c") (ByText (codes "\ttrue"))), Accepted 0 1 (span 4 10 [] ∷ []) (Becomes (codes "c&:\n"))) ∷  -- recipes-642
    (codes "\\\nexport private define D\nF =\ta  b-g#\ninclude: ; true\n>>a\nendif", RemoveLines (OfRecipe None (codes "d") (ByText (codes "true"))), NotMade 0 NoSuch) ∷  -- recipes-646
    (codes "c: a\n\\\n#c \\\n d\nifdef A\nF =x=1 = \\\r\n -g# c\nendif\nX\\\n!=-g -g $x\t$# \\\n    -g \noverride ?= -g a:b \\\r\n -g\n", AddRecipe None (codes "c") (At 1) (codes " a"), Accepted 1 0 (span 5 5 (codes "\t a\n") ∷ []) (Becomes (codes "c: a\n\t a\n\\\n#c \\\n d\nifdef A\nF =x=1 = \\\r\n -g# c\nendif\nX\\\n!=-g -g $x\t$# \\\n    -g \noverride ?= -g a:b \\\r\n -g\n"))) ∷  -- recipes-647
    (codes "ifdef A\nF =$  -O2 \nendif\n%.o:\n\trm -rf x\n\trm -rf x\nifeq (a,b)\n\tifdef Q\n :\0$\\\\\n?\n", SetRecipe None (codes "%.o") (ByText (codes "rm -rf x")) (codes "b"), NotMade 1 (Ambiguous 2)) ∷  -- recipes-649
    (codes "F !=a \\\n \\\n a\nd: ; true\n", AddRecipe None (codes "d") (At 1) (codes "\ttrue"), Accepted 1 0 (span 24 24 (codes "\t\ttrue\n") ∷ []) (Becomes (codes "F !=a \\\n \\\n a\nd: ; true\n\t\ttrue\n"))) ∷  -- recipes-651
    (codes "x.o: ;\n \n\ttrue\nd: a | b\n>true", AddRecipe (Some 1) (codes "d") (At 1) (codes "rm -rf x"), Accepted 1 0 (span 24 24 (codes "\trm -rf x\n") ∷ []) (Becomes (codes "x.o: ;\n \n\ttrue\nd: a | b\n\trm -rf x\n>true"))) ∷  -- recipes-652
    (codes "c: a | b\r\n\tx \\ y\r\n", SetRecipe (Some 2) (codes "c") (ByText (codes "rm -f x")) (codes "rm -rf x"), NotMade 1 NoSuch) ∷  -- recipes-655
    (codes ".RECIPEPREFIX = >\nc: a | b\n\tt\n\ttrue\n \nc: a\n\trm -rf x\n\n\t\nifeq (a,b)\nc: ; true\n\trm -rf x\n\tifdef Q\na.b =a:b \\\n    $\\\\\n\tx=1 \noverride F = -O2 \\\r\n b\t$(t \\\n -g)\\\n-O2 \\\n \\\n a#-g ", SetRecipe (Some 1) (codes "c") (ByText (codes "a\\")) (codes "rm -rf x"), NotMade 1 (BadArgument field.Old)) ∷  -- recipes-656
    (codes "ifdef := \t \nc:: # c\n\ttrue\nc&: a | b\nifdef A\nF\\\n:= b a a:b -O2 \nelse\nF\\\n?= b a \\\nx=1 -g \nendif\nX::= a:b\\\n", RemoveLines (OfRecipe (Some 1) (codes "c") (ByText (codes "true"))), Accepted 0 1 (span 20 26 [] ∷ []) (Becomes (codes "ifdef := \t \nc:: # c\nc&: a | b\nifdef A\nF\\\n:= b a a:b -O2 \nelse\nF\\\n?= b a \\\nx=1 -g \nendif\nX::= a:b\\\n"))) ∷  -- recipes-657
    (codes "c: ;\n\t# n\n# n\nF= a\nifdef A\nexport F:= b $$ | \nelse\nF ::= a$ \\\n\\\nb\\\n-g\nendif", RemoveLines (OfRecipe None (codes "c") (ByText (codes "# n"))), Accepted 0 1 (span 5 10 [] ∷ []) (Becomes (codes "c: ;\n# n\nF= a\nifdef A\nexport F:= b $$ | \nelse\nF ::= a$ \\\n\\\nb\\\n-g\nendif"))) ∷  -- recipes-659
    (codes "F = \\\n \\\n b x$(a  b)\\\n \nc&: ;\n>\ttrue\n>t\nd:: # c\n>true\n># n\nX = b -g a \n", RemoveLines (OfRecipe None (codes "c") (ByText (codes " a"))), NotMade 0 Absent) ∷  -- recipes-660
    (codes "c:\r\n\tx \\ y\r\n\t>a\r\n\tief Q\r\n", SetRecipe None (codes "c") (ByText (codes "x \\ y")) (codes " a"), Accepted 1 1 (span 5 10 (codes " a") ∷ []) (Becomes (codes "c:\r\n\t a\r\n\t>a\r\n\tief Q\r\n"))) ∷  -- recipes-662
    (codes ".RECIPEPREFIX = >\n\t${g(}: | $(q:;=|) ; = \\\\\noverride endef :::=  \nF\\\n= -g $(A -g) $(A -g) \n", AddRecipe None (codes "${g(}") (At 1) (codes "b"), Accepted 1 0 (span 44 44 (codes ">b\n") ∷ []) (Becomes (codes ".RECIPEPREFIX = >\n\t${g(}: | $(q:;=|) ; = \\\\\n>b\noverride endef :::=  \nF\\\n= -g $(A -g) $(A -g) \n"))) ∷  -- recipes-663
    (codes "d&: a\n\t a\n\t# n\nX := x$(a  b) | a:b # \\\n d\noverride\\\n= \\\n \n$(a b): a  a&b | c ${c} ;\\\n\\\na\\ #\0\n", RemoveLines (OfRecipe None (codes "d") (ByText (codes " a"))), Accepted 0 1 (span 6 10 [] ∷ []) (Becomes (codes "d&: a\n\t# n\nX := x$(a  b) | a:b # \\\n d\noverride\\\n= \\\n \n$(a b): a  a&b | c ${c} ;\\\n\\\na\\ #\0\n"))) ∷  -- recipes-666
    (codes "d:: ; true\n>say \"q\"\n # n\n>a # b\n>y\r\n.RECIPEPREFIX = >", AddRecipe None (codes "d") (At 1) (codes "t"), Accepted 1 0 (span 11 11 (codes "\tt\n") ∷ []) (Becomes (codes "d:: ; true\n\tt\n>say \"q\"\n # n\n>a # b\n>y\r\n.RECIPEPREFIX = >"))) ∷  -- recipes-670
    (codes "c: a\n\tt\nF !=$(w \\\n a)\n", RemoveLines (OfRecipe (Some 1) (codes "c") (ByText (codes "t"))), Accepted 0 1 (span 5 8 [] ∷ []) (Becomes (codes "c: a\nF !=$(w \\\n a)\n"))) ∷  -- recipes-671
    (codes "d: ;\n\tt\n\t\n\t\nF = x$(a  b) \\\n \\\n $x  -O2 b $(w \\\n a)\nc&: # c\nF\\\n?= -O2 $(t \\\n -g) \\\n \\\n -O2 #\n", AddRecipe None (codes "c") (At 1) (codes "a"), Accepted 1 0 (span 59 59 (codes "\ta\n") ∷ []) (Becomes (codes "d: ;\n\tt\n\t\n\t\nF = x$(a  b) \\\n \\\n $x  -O2 b $(w \\\n a)\nc&: # c\n\ta\nF\\\n?= -O2 $(t \\\n -g) \\\n \\\n -O2 #\n"))) ∷  -- recipes-672
    (codes "ifdef A\nF = -g \\\n    $(w \\\n a)\nendif\n$(q:;=|) c: a&b \\\n-include2\n", RemoveLines (OfRecipe None (codes "$(q:;=|)") (ByText (codes "say \"q\""))), NotMade 0 Absent) ∷  -- recipes-673
    (codes "F?=$(w \\\n a) \nd: a\nifeq (a,b)\n\tx \\ y\nX\\\n:= a:b\\\n\tx=1 $\\\n  -g#-g\n", SetRecipe None (codes "d") (ByText (codes "x \\ y")) (codes ">a"), Accepted 1 1 (span 31 36 (codes ">a") ∷ []) (Becomes (codes "F?=$(w \\\n a) \nd: a\nifeq (a,b)\n\t>a\nX\\\n:= a:b\\\n\tx=1 $\\\n  -g#-g\n"))) ∷  -- recipes-674
    (codes "x.o&: ; true\n\tx \\ y\n\t\nF= b \\\n    =\nF := =# c\n", RemoveLines (OfRecipe None (codes "x.o") (ByText (codes "x \\ y"))), Accepted 0 1 (span 13 20 [] ∷ []) (Becomes (codes "x.o&: ; true\n\t\nF= b \\\n    =\nF := =# c\n"))) ∷  -- recipes-689
    (codes "c: a\nc&: ; true\n\t>a\n\ttrue\n\ta \\\n\tb\n", AddRecipe (Some 2) (codes "c") (At 3) (codes "true"), Accepted 1 0 (span 26 26 (codes "\ttrue\n") ∷ []) (Becomes (codes "c: a\nc&: ; true\n\t>a\n\ttrue\n\ttrue\n\ta \\\n\tb\n"))) ∷  -- recipes-690
    (codes "c:: ; true\n\ttrue\n\tsay \"q\"\nc: # c\n# n\n# \\\n n\nF:= a $x\noverride += $\\#-g\nF\\\n?=b\t$(w \\\n a)  a#-g\n", AddRecipe (Some 1) (codes "c") (At 2) (codes " a"), Accepted 1 0 (span 17 17 (codes "\t a\n") ∷ []) (Becomes (codes "c:: ; true\n\ttrue\n\t a\n\tsay \"q\"\nc: # c\n# n\n# \\\n n\nF:= a $x\noverride += $\\#-g\nF\\\n?=b\t$(w \\\n a)  a#-g\n"))) ∷  -- recipes-694
    (codes "X ?= | a\\:b foo\\\n\n \\\n\tendef +=${g(} = $(q:;=|) \\\n \\\n \nc:: # c\n\ttrue\n\trm -rf x\n\ttrue\nc:: ;\n\tx \\ y\nF != \\\n \\\n b\n\ta\n\t# n\n", RemoveLines (OfRecipe (Some 2) (codes "c") (ByText (codes "x \\ y"))), Accepted 0 1 (span 90 97 [] ∷ []) (Becomes (codes "X ?= | a\\:b foo\\\n\n \\\n\tendef +=${g(} = $(q:;=|) \\\n \\\n \nc:: # c\n\ttrue\n\trm -rf x\n\ttrue\nc:: ;\nF != \\\n \\\n b\n\ta\n\t# n\n"))) ∷  -- recipes-696
    (codes "F\\\r\n=  \r\nd: a\r\n\ttrue\r\n\ttrue\r\n\tifdef Q\r\nifdef A\r\nF?= b -g # a \\\\\r\nelse\r\nF =\\\r\n-O2 a a$ \\\r\n-g#-g\r\nendif\r\nF\\\r\n= a:b a#-g\r\nifdef A\r\nX =-O2 | a \\\r\n -O2\\\r\n\t; #\r\nendif\r\n", SetRecipe None (codes "d") (ByText (codes "true")) (codes "true"), NotMade 1 (Ambiguous 2)) ∷  -- recipes-699
    (codes "c:\nifeq (a,b)\n\tt\n\t a\n\tifdef Q\n", RemoveLines (OfRecipe None (codes "c") (ByText (codes "ifdef Q"))), Accepted 0 1 (span 21 30 [] ∷ []) (Becomes (codes "c:\nifeq (a,b)\n\tt\n\t a\n"))) ∷  -- recipes-713
    (codes "ifdef A\r\nF::= # c\r\nendif\r\nx.o&:\r\n# \\\r\n n\r\n", RemoveLines (OfRecipe (Some 0) (codes "x.o") (ByText (codes " a"))), NotMade 0 NoSuch) ∷  -- recipes-716
    (codes "c: ; true\nexport F :=$\\\n\t\ttrue\n\tsay \"q\"\nexport \\\n  A= c\nifdef A\nF := ;  b\\\n \\\\ a =\nelse\nX =$x\nendif", AddRecipe None (codes "c") (At 1) (codes ">a"), Accepted 1 0 (span 10 10 (codes "\t>a\n") ∷ []) (Becomes (codes "c: ; true\n\t>a\nexport F :=$\\\n\t\ttrue\n\tsay \"q\"\nexport \\\n  A= c\nifdef A\nF := ;  b\\\n \\\\ a =\nelse\nX =$x\nendif"))) ∷  -- recipes-726
    (codes "d: ; true\r\n\ty\r\n\ta\r\n\tx \\ y\r\n# n\r\nF = -O2 \\\\\\\\  $\\ \r\nX := \\\r\n a:b", AddRecipe None (codes "d") (At 4) [], Accepted 1 0 (span 27 27 (codes "\t\r\n") ∷ []) (Becomes (codes "d: ; true\r\n\ty\r\n\ta\r\n\tx \\ y\r\n\t\r\n# n\r\nF = -O2 \\\\\\\\  $\\ \r\nX := \\\r\n a:b"))) ∷  -- recipes-727
    (codes "F\\\n=a\\\n=\\\n $\\\n ; -g \\\n\n\tprivate X$: ?=a\\ # c\nX = x=1 $ # \\\n d\n%.o: a\n\t\nF !=a $x#-g\nX\\\n= #-g", AddRecipe None (codes "%.o") (At 3) (codes "true"), NotMade 1 Absent) ∷  -- recipes-729
    (codes "F\\\n?= ;\\\n\\\n$  \nc: a\n\ttrue\n\tb\nendif\n\tx \\ y\n", RemoveLines (OfRecipe (Some 0) (codes "c") (ByText (codes "\ttrue"))), NotMade 0 NoSuch) ∷  -- recipes-733
    []

answers_5 : map (λ row. account row.0 row.1) rows_5 ≡ map (λ row. row.2) rows_5
answers_5 = refl

abbrev rows_6 : List (List ℕ × Edit × Account)
rows_6 =
    (codes ".RECIPEPREFIX = >\nd: a\n>true\n>\n># n\nF= \\\r\n $(A -g)", RemoveLines (OfRecipe None (codes "d") (ByText (codes "true"))), Accepted 0 1 (span 23 29 [] ∷ []) (Becomes (codes ".RECIPEPREFIX = >\nd: a\n>\n># n\nF= \\\r\n $(A -g)"))) ∷  -- recipes-735
    (codes "d:\n\tb\n\t\ttrue\n\t>a\n\ttrue\noverride F\\\n=a \nex$port F != -2 a\n", RemoveLines (OfRecipe None (codes "d") (ByText (codes "true"))), Accepted 0 1 (span 17 23 [] ∷ []) (Becomes (codes "d:\n\tb\n\t\ttrue\n\t>a\noverride F\\\n=a \nex$port F != -2 a\n"))) ∷  -- recipes-738
    (codes "X ::= $$ \\\n    -O2\\\n\\\n$(a b) $(u b\nc c&: # c\nd c: ; true\n\ttrue\n\ttrue\n\tb\n%.o c:: a\n\t>a\nelse\n&\\\\\nX; $\t\n", AddRecipe (Some 2) (codes "c") (At 3) (codes "# n"), Accepted 1 0 (span 69 69 (codes "\t# n\n") ∷ []) (Becomes (codes "X ::= $$ \\\n    -O2\\\n\\\n$(a b) $(u b\nc c&: # c\nd c: ; true\n\ttrue\n\ttrue\n\t# n\n\tb\n%.o c:: a\n\t>a\nelse\n&\\\\\nX; $\t\n"))) ∷  -- recipes-740
    (codes "F = $$ $(a b) =\nifdef A\nF\\\n::= x=1 \\\nb \nelse\nX += $(A -g)\\\n\\\na \\\r\n a $(w \\\n a)\nendif\n", SetRecipe None (codes "c") (ByText (codes "# n")) (codes "true"), NotMade 1 NoSuch) ∷  -- recipes-744
    (codes "c:: ; true\n\ttrue\n\trm -rf x\n", SetRecipe (Some 4294967295) (codes "c") (ByText (codes "a # b")) (codes " a"), NotMade 1 NoSuch) ∷  -- recipes-747
    (codes "c: a | b\n\tb\nx.o&: a | b\nifdef A\nendif\n\ta\nifdef A\nc: # c\n\ttrue\n\tb\n", RemoveLines (OfRecipe (Some 2) (codes "c") (ByText (codes "true"))), Accepted 0 1 (span 56 62 [] ∷ []) (Becomes (codes "c: a | b\n\tb\nx.o&: a | b\nifdef A\nendif\n\ta\nifdef A\nc: # c\n\tb\n"))) ∷  -- recipes-750
    (codes "d: ;\n\tifdef Q\n\t a\noverride F\\\n= $  a\\\n ${v a# a \\\\", RemoveLines (OfRecipe None (codes "d") (ByText (codes "ifdef Q"))), Accepted 0 1 (span 5 14 [] ∷ []) (Becomes (codes "d: ;\n\t a\noverride F\\\n= $  a\\\n ${v a# a \\\\"))) ∷  -- recipes-753
    (codes "%.o: ;\r\n\t>a\r\n\t>a\\\n", SetRecipe None (codes "%.o") (ByText (codes ">a\\")) (codes "true"), NotMade 1 (BadArgument field.Old)) ∷  -- recipes-756
    (codes "ifdef A\nX ?= b \\\r\n = -g# \\\n d\nendif\nx.o&:\n", RemoveLines (OfRecipe (Some 0) (codes "x.o") (ByText [])), NotMade 0 NoSuch) ∷  -- recipes-762
    (codes "ifdef A\nF= -g\\\n\t; b# c\nendif\nc:\n\t>a\nifeq (a,b)\nifeq (a,b)\n\t a\nifdef A\nexport override\\\n= $$ $##-g\nelse\noverride\\\n=  \nendif\nc: a\n", AddRecipe (Some 1) (codes "c") (At 4) (codes "t"), NotMade 1 Absent) ∷  -- recipes-766
    (codes "d: a | b\n\t#\\\\\nendef+= # ", AddRecipe None (codes "d") (At 2) (codes "\ttrue"), Accepted 1 0 (span 14 14 (codes "\t\ttrue\n") ∷ []) (Becomes (codes "d: a | b\n\t#\\\\\n\t\ttrue\nendef+= # "))) ∷  -- recipes-769
    (codes "c: ; true\n>\ttrue\n \n>x \\ y\nexport F = $(A -g) $(s (b) a)\nF \\= =\ta\\ # c\nF= b\\\nx=1 a\nX := # a \\\\\n", AddRecipe None (codes "c") (At 4294967295) (codes "true"), NotMade 1 Absent) ∷  -- recipes-773
    (codes "d: ; true\n\t\ttrue", RemoveLines (OfRecipe None (codes "include") (ByText (codes "true"))), NotMade 0 Reserved) ∷  -- recipes-779
    (codes "c&: ; true\n>  -rf x\n>a\n", AddRecipe None (codes "c") (At 1) (codes "t"), Accepted 1 0 (span 11 11 (codes "\tt\n") ∷ []) (Becomes (codes "c&: ; true\n\tt\n>  -rf x\n>a\n"))) ∷  -- recipes-780
    (codes "d:\r\n> a\r\nifdef A\\", SetRecipe (Some 2) (codes "d") (ByText (codes "a")) (codes "b"), NotMade 1 NoSuch) ∷  -- recipes-787
    (codes "c: a | b\r\nendif\r\nc: ;\r\n\t\r\n\tt", SetRecipe (Some 2) (codes "c") (ByText []) (codes "rm -f x"), Accepted 1 1 (span 24 24 (codes "rm -f x") ∷ []) (Becomes (codes "c: a | b\r\nendif\r\nc: ;\r\n\trm -f x\r\n\tt"))) ∷  -- recipes-788
    (codes "d:\r\n \r\n \r\n\ta\\\\\r\n", RemoveLines (OfRecipe None (codes "d") (ByText (codes "a\\\\"))), NotMade 0 (BadArgument field.Old)) ∷  -- recipes-789
    (codes "x.o::\r\n", AddRecipe (Some 1) (codes "x.o") (At 1) [], Accepted 1 0 (span 7 7 (codes "\t\r\n") ∷ []) (Becomes (codes "x.o::\r\n\t\r\n"))) ∷  -- recipes-790
    (codes "ifdef A\r\nF ::= b ${v a\\\r\n -g a:b\ta:b\r\nendif\r\n\t\r\n", SetRecipe None (codes "c") (ByText (codes "rm -rf x")) (codes "t"), NotMade 1 NoSuch) ∷  -- recipes-791
    (codes "d:\r\n\ttrue\r\nexport X = -g# c\r\n\r\na.b =-g \\\r\n    a\r\nX +=$(t \\\r\n -g)\\\r\n\t$(s (b) a) \\\r\n -O2 -O2 \\\r\n -g\r\n", RemoveLines (OfRecipe None (codes "d") (ByText (codes "true"))), Accepted 0 1 (span 4 11 [] ∷ []) (Becomes (codes "d:\r\nexport X = -g# c\r\n\r\na.b =-g \\\r\n    a\r\nX +=$(t \\\r\n -g)\\\r\n\t$(s (b) a) \\\r\n -O2 -O2 \\\r\n -g\r\n"))) ∷  -- recipes-797
    (codes "F = b \\\r\n ; \nc: a\n # n\n\ta\n\tsay \"q\"\n\t a\n", AddRecipe None (codes "c") (At 1) (codes ">a"), Accepted 1 0 (span 23 23 (codes "\t>a\r\n") ∷ []) (Becomes (codes "F = b \\\r\n ; \nc: a\n # n\n\t>a\r\n\ta\n\tsay \"q\"\n\t a\n"))) ∷  -- recipes-802
    (codes "d: ;\n\ttrue\nel\\\n\n%.o: ; tru\\\\\n\tsay \"q\"\n\tt\n\tsay \"q\"\nX =a:b# a \\\\\nc&: ; true\na.b :=a:b\t-g | -O2 # c\n", AddRecipe None (codes "%.o") (At 2) (codes "ifdef Q"), Accepted 1 0 (span 38 38 (codes "\tifdef Q\n") ∷ []) (Becomes (codes "d: ;\n\ttrue\nel\\\n\n%.o: ; tru\\\\\n\tsay \"q\"\n\tifdef Q\n\tt\n\tsay \"q\"\nX =a:b# a \\\\\nc&: ; true\na.b :=a:b\t-g | -O2 # c\n"))) ∷  -- recipes-804
    (codes "c: a\n\trm -f x\n\ttrue\n\ttrue\n>q  ::= 2 3x.o\nifdef A\nF\\\n::= |  a  \nelse\nX := -O2 a b\\\n \\\\ \nendif\n", SetRecipe None (codes "c") (ByText (codes "true")) (codes "a"), NotMade 1 (Ambiguous 2)) ∷  -- recipes-805
    (codes ".RECIPEPREFIX = >\r\nF= a\ta a:b\nF = ; $(A -g)\nc: # c\n>ifdef Q\n> a\n>a\n# \\\n n\n", RemoveLines (OfRecipe None (codes "c") (ByText (codes " a"))), Accepted 0 1 (span 60 64 [] ∷ []) (Becomes (codes ".RECIPEPREFIX = >\r\nF= a\ta a:b\nF = ; $(A -g)\nc: # c\n>ifdef Q\n>a\n# \\\n n\n"))) ∷  -- recipes-806
    (codes "export F= $(t \\\n -g)\nc:: # c\n\t# n\n\ttrue \\\r\n\ttrue\n\t\\\n\n\ta\n", RemoveLines (OfRecipe None (codes "c") (ByText (codes "# n"))), Accepted 0 1 (span 29 34 [] ∷ []) (Becomes (codes "export F= $(t \\\n -g)\nc:: # c\n\ttrue \\\r\n\ttrue\n\t\\\n\n\ta\n"))) ∷  -- recipes-809
    (codes "c: # c\n\ta\n%.o:: ;\n\ta\\\n>b\nc c: # c\n>t\n>t\n", AddRecipe (Some 1) (codes "c") (At 1) (codes "true"), Accepted 1 0 (span 7 7 (codes "\ttrue\n") ∷ []) (Becomes (codes "c: # c\n\ttrue\n\ta\n%.o:: ;\n\ta\\\n>b\nc c: # c\n>t\n>t\n"))) ∷  -- recipes-810
    (codes "c: a | b\r\n\trm -f x\r\nelse\r\n# n\r\ninclude: a | b\r\n\ta\r\nc c: ;\r\n\t\\\r\n\r\n\ta # b\r\n\tifdef Q\r\noverride X\\\r\n= a \\\r\n a\\$#-g\r\nc: a\r\n\t\\\r\n\r\n\trm -f x\r\n\t# n\r\n", SetRecipe (Some 2) (codes "c") (ByText (codes "a # b")) (codes "say \"q\""), Accepted 1 1 (span 66 71 (codes "say \"q\"") ∷ []) (Becomes (codes "c: a | b\r\n\trm -f x\r\nelse\r\n# n\r\ninclude: a | b\r\n\ta\r\nc c: ;\r\n\t\\\r\n\r\n\tsay \"q\"\r\n\tifdef Q\r\noverride X\\\r\n= a \\\r\n a\\$#-g\r\nc: a\r\n\t\\\r\n\r\n\trm -f x\r\n\t# n\r\n"))) ∷  -- recipes-812
    (codes "c: ;\n\ta\nendif\n\trm -f x\n\ttrue\nF= a a:b\ta:b | \\\nexport F := -O2\nF\\\n:= |  a\\\n -g a a\n", RemoveLines (OfRecipe None (codes "c") (ByText (codes "a"))), Accepted 0 1 (span 5 8 [] ∷ []) (Becomes (codes "c: ;\nendif\n\trm -f x\n\ttrue\nF= a a:b\ta:b | \\\nexport F := -O2\nF\\\n:= |  a\\\n -g a a\n"))) ∷  -- recipes-817
    (codes "c: a\n\t# n\nd: a\n\ttrue\n\ta\nc:\n\tx \\ y\n\ta\nc: ;\n>\ttrue\\", SetRecipe (Some 1) (codes "c") (ByText (codes "# n")) (codes "x \\ y"), Accepted 1 1 (span 6 9 (codes "x \\ y") ∷ []) (Becomes (codes "c: a\n\tx \\ y\nd: a\n\ttrue\n\ta\nc:\n\tx \\ y\n\ta\nc: ;\n>\ttrue\\"))) ∷  -- recipes-818
    (codes "c:: ;\nexport X\\\n= # a \\\\\nelse\nendif\noverride +=x=1\\\n -g\\\n\\\n-g\\\n b b#-g\n", RemoveLines (OfRecipe (Some 0) (codes "c") (ByText (codes "a\r"))), NotMade 0 (BadArgument field.Old)) ∷  -- recipes-819
    (codes "override ?= \nc: a | b\nF := \\\n \\\n -g#-g\nexport F =$# \\\n-g \\\nb \nF\\\n!= -O2 -O2 -g # c\n", AddRecipe None (codes "c") (At 1) [], Accepted 1 0 (span 22 22 (codes "\t\n") ∷ []) (Becomes (codes "override ?= \nc: a | b\n\t\nF := \\\n \\\n -g#-g\nexport F =$# \\\n-g \\\nb \nF\\\n!= -O2 -O2 -g # c\n"))) ∷  -- recipes-821
    (codes "d c: ;\n\tifdef Q\n\ta\nelse\n\t\ttrue\nd: ; true\n\tt\nifeq (a,b)\n", SetRecipe None (codes "c") (ByText (codes "a")) [], Accepted 1 1 (span 17 18 [] ∷ []) (Becomes (codes "d c: ;\n\tifdef Q\n\t\nelse\n\t\ttrue\nd: ; true\n\tt\nifeq (a,b)\n"))) ∷  -- recipes-826
    (codes ".=ECIPEPRE\\\nIX = >\nX  = $(p #) a $(q:;=|)\\\n\t\\\r\n\noverride F\\\n+= -g# c\nc c: # c\n# \\\n n\n\t\ttrue\n\n", AddRecipe None (codes "c") (At 1) (codes "rm -f x"), Accepted 1 0 (span 85 85 (codes "\trm -f x\n") ∷ []) (Becomes (codes ".=ECIPEPRE\\\nIX = >\nX  = $(p #) a $(q:;=|)\\\n\t\\\r\n\noverride F\\\n+= -g# c\nc c: # c\n# \\\n n\n\trm -f x\n\t\ttrue\n\n"))) ∷  -- recipes-828
    (codes "c: a\r\n\t\ttrue\r\nelse\r\nendif\r\n", RemoveLines (OfRecipe (Some 1) (codes "c") (ByText (codes "\ttrue"))), Accepted 0 1 (span 6 14 [] ∷ []) (Becomes (codes "c: a\r\nelse\r\nendif\r\n"))) ∷  -- recipes-829
    (codes "d: ;\n\t\n\t\n\t\\\nd: # c", SetRecipe None (codes "d") (ByText []) (codes "rm -f x"), NotMade 1 (Ambiguous 2)) ∷  -- recipes-831
    (codes "X::= b \nc: a | b\n\tt\n\ta\n\t a\n\t# n\n\\\n#\\\\\\\n", RemoveLines (OfRecipe (Some 1) (codes "c") (ByText (codes "t"))), Accepted 0 1 (span 17 20 [] ∷ []) (Becomes (codes "X::= b \nc: a | b\n\ta\n\t a\n\t# n\n\\\n#\\\\\\\n"))) ∷  -- recipes-833
    (codes "include: ;\n", SetRecipe None (codes "include") (ByText (codes "rm -f x")) (codes "ifdef Q"), NotMade 1 Reserved) ∷  -- recipes-834
    (codes "c: ; true\r\n\ttrue\r\n\tt\r\n\tx \\ y\r\noverride a.b= -g\\\r\n\\\r\nb \r\nifdef A\r\nX ?= -g\t=\\\r\n-g\\\r\na$\\ -g # a \\\\\r\nendif\r\n", SetRecipe None (codes "c") (ByText (codes "x \\ y")) (codes "x \\ y"), Accepted 1 1 (span 23 28 (codes "x \\ y") ∷ []) (Becomes (codes "c: ; true\r\n\ttrue\r\n\tt\r\n\tx \\ y\r\noverride a.b= -g\\\r\n\\\r\nb \r\nifdef A\r\nX ?= -g\t=\\\r\n-g\\\r\na$\\ -g # a \\\\\r\nendif\r\n"))) ∷  -- recipes-839
    (codes "c d: a | b\nF =\\\n\t|# a \\\\\n", AddRecipe (Some 1) (codes "d") (At 1) (codes "ifdef Q"), Accepted 1 0 (span 11 11 (codes "\tifdef Q\n") ∷ []) (Becomes (codes "c d: a | b\n\tifdef Q\nF =\\\n\t|# a \\\\\n"))) ∷  -- recipes-841
    (codes "c: ; true\n\ta\n\trm -f x\n", SetRecipe None (codes "c") (ByText (codes "rm -f x")) (codes "a\\"), NotMade 1 (BadArgument field.Line)) ∷  -- recipes-843
    (codes "c&: a | b\n", AddRecipe None (codes "c") (At 1) (codes ">a"), Accepted 1 0 (span 10 10 (codes "\t>a\n") ∷ []) (Becomes (codes "c&: a | b\n\t>a\n"))) ∷  -- recipes-844
    (codes "\r\n%.o d:: a | b\n\tifdef Q\n\tsay \"q\"\nelse\nx.o: ;\n\ta # b\nifdef A\n\tb\n", SetRecipe None (codes "d") (ByText (codes "say \"q\"")) (codes "ifdef Q"), Accepted 1 1 (span 26 33 (codes "ifdef Q") ∷ []) (Becomes (codes "\r\n%.o d:: a | b\n\tifdef Q\n\tifdef Q\nelse\nx.o: ;\n\ta # b\nifdef A\n\tb\n"))) ∷  -- recipes-846
    (codes "c c: ;\r\n>true\r\n>a\\\r\n>b\r\n# n\r\nc:: a | b\r\n\ta\\\r\n>b\r\nelse\r\nF = a ; $$ #\r\nifdef A\r\na.b = b | $# a $## \\\r\n d\r\nelse\r\nF\\\r\n?=-g\\\r\n a\\\r\n$\\ a\\\r\n\t; \r\nendif\r\nifdef A\r\nF\\\r\n::= $$ | \\\r\n-O2\\\r\n\\\r\nb\r\nelse\r\nF ::= $(A -g) $(a b) b =\r\nendif\r\n", SetRecipe None (codes "d") (ByText (codes "true")) [], NotMade 1 NoSuch) ∷  -- recipes-852
    (codes "X ::=-g $#\nF = b\nx.o c: # c\n", AddRecipe None (codes "x.o") (At 1) (codes "a"), Accepted 1 0 (span 28 28 (codes "\ta\n") ∷ []) (Becomes (codes "X ::=-g $#\nF = b\nx.o c: # c\n\ta\n"))) ∷  -- recipes-853
    (codes "X =$x \nifdef A\noverride F= $(A -g)\\\nb \\\n$(a\tb)\nelse\nF =-g#-g\nendif\nd: ;\n\ttrue\n\tifdef Q\n\tifdef Q\nelse\n", AddRecipe (Some 0) (codes "d") (At 1) (codes "a\\"), NotMade 1 (BadArgument field.Line)) ∷  -- recipes-858
    (codes "d: a | b\n\trm -rf x\n.RECIPEPREFIX = \nifdef A\noverride ?= \\\n$# \\\r\n a:b\nelse\noverride a.b := \t\nendif", SetRecipe None (codes "d") (ByText (codes "rm -rf x")) (codes "ifdef Q"), Accepted 1 1 (span 10 18 (codes "ifdef Q") ∷ []) (Becomes (codes "d: a | b\n\tifdef Q\n.RECIPEPREFIX = \nifdef A\noverride ?= \\\n$# \\\r\n a:b\nelse\noverride a.b := \t\nendif"))) ∷  -- recipes-860
    (codes "F\\\n= \nc: # c\n.RECIPEPREFIX= $x", RemoveLines (OfRecipe None (codes "c") (ByText (codes "a"))), NotMade 0 RecipePrefix) ∷  -- recipes-861
    (codes "override F\\\n!=\\#\t${v a\ta \\\r\n a # \\\n d\n%.o: a | b\n\t\n\tsay \"q\"\n\t\ttrue\na.b += $(t \\\n -g) x$(a  b) $(s (b) a) \\\na\n", AddRecipe None (codes "%.o") (At 1) (codes "b"), Accepted 1 0 (span 49 49 (codes "\tb\n") ∷ []) (Becomes (codes "override F\\\n!=\\#\t${v a\ta \\\r\n a # \\\n d\n%.o: a | b\n\tb\n\t\n\tsay \"q\"\n\t\ttrue\na.b += $(t \\\n -g) x$(a  b) $(s (b) a) \\\na\n"))) ∷  -- recipes-865
    (codes "include: a | b\n", SetRecipe None (codes "include") (ByText (codes "t")) (codes "a\r"), NotMade 1 (BadArgument field.Line)) ∷  -- recipes-867
    (codes "%.o: ;\n\t a\n\t# n\nd: # c\n\trm -rf x\n\tsay \"q\"\n\tb\nexport F\\\n::= b $(a\tb)\r", AddRecipe (Some 1) (codes "%.o") (At 2) (codes " a"), Accepted 1 0 (span 11 11 (codes "\t a\n") ∷ []) (Becomes (codes "%.o: ;\n\t a\n\t a\n\t# n\nd: # c\n\trm -rf x\n\tsay \"q\"\n\tb\nexport F\\\n::= b $(a\tb)\r"))) ∷  -- recipes-869
    []

answers_6 : map (λ row. account row.0 row.1) rows_6 ≡ map (λ row. row.2) rows_6
answers_6 = refl

abbrev rows_7 : List (List ℕ × Edit × Account)
rows_7 =
    (codes "F = b $(A -g) -g\nd: ; true\n\trm -f x\n\tx \\ y\noverride!= b\\\n-O2 \\\n \\\n -g  \noverride +=${c} x$(a  b)\\\n\\\n| -O2\noverride = -O2 \\\n    a -O2\n", AddRecipe None (codes "d") (At 2) (codes "rm -f x"), Accepted 1 0 (span 36 36 (codes "\trm -f x\n") ∷ []) (Becomes (codes "F = b $(A -g) -g\nd: ; true\n\trm -f x\n\trm -f x\n\tx \\ y\noverride!= b\\\n-O2 \\\n \\\n -g  \noverride +=${c} x$(a  b)\\\n\\\n| -O2\noverride = -O2 \\\n    a -O2\n"))) ∷  -- recipes-870
    (codes "F = a b \\\n    ;\nc: # c\n\tifdef Q\n\tx \\ y\nendef != b # c\nF\\\n= a $(s (b) a)\\\n ;", SetRecipe None (codes "c") (ByText (codes "x \\ y")) (codes "true"), Accepted 1 1 (span 33 38 (codes "true") ∷ []) (Becomes (codes "F = a b \\\n    ;\nc: # c\n\tifdef Q\n\ttrue\nendef != b # c\nF\\\n= a $(s (b) a)\\\n ;"))) ∷  -- recipes-872
    (codes "d: # c\n\t>a\nels=e\n\t a\n\ttrue", AddRecipe None (codes "d") (At 2) (codes "true"), Accepted 1 0 (span 11 11 (codes "\ttrue\n") ∷ []) (Becomes (codes "d: # c\n\t>a\n\ttrue\nels=e\n\t a\n\ttrue"))) ∷  -- recipes-873
    (codes "F =  #\r\nd: # c\r\n\tb\r\n\tx \\ y\r\noverride\\\r\n:= \r\n", AddRecipe None (codes "d") (At 1) (codes "a"), Accepted 1 0 (span 16 16 (codes "\ta\r\n") ∷ []) (Becomes (codes "F =  #\r\nd: # c\r\n\ta\r\n\tb\r\n\tx \\ y\r\noverride\\\r\n:= \r\n"))) ∷  -- recipes-875
    (codes "d::\n # n\n\ta # b\noverride!= = # c\n", SetRecipe None (codes "d") (ByText (codes "a # b")) (codes "# n"), Accepted 1 1 (span 10 15 (codes "# n") ∷ []) (Becomes (codes "d::\n # n\n\t# n\noverride!= = # c\n"))) ∷  -- recipes-877
    (codes "F\\\n= -g\nx.o:: a | b\n\tt\n\t>a\nX\\\n::=$(w \\\n a) \\\n \\\n b\t\noverride !=-g\\\n\\\n; \\\r\n b\nexport override = $\\\n ", AddRecipe None (codes "x.o") (At 2) (codes "a"), Accepted 1 0 (span 23 23 (codes "\ta\n") ∷ []) (Becomes (codes "F\\\n= -g\nx.o:: a | b\n\tt\n\ta\n\t>a\nX\\\n::=$(w \\\n a) \\\n \\\n b\t\noverride !=-g\\\n\\\n; \\\r\n b\nexport override = $\\\n "))) ∷  -- recipes-880
    (codes "c:\nd: ; true\n>a # b\n>a\\\n b\n>b\nifeq (a,b)\n", AddRecipe None (codes "d") (At 1) (codes "rm -f x"), Accepted 1 0 (span 13 13 (codes "\trm -f x\n") ∷ []) (Becomes (codes "c:\nd: ; true\n\trm -f x\n>a # b\n>a\\\n b\n>b\nifeq (a,b)\n"))) ∷  -- recipes-883
    (codes "ifdef A\r\nX?= -g -g\\\nb a# \\\n d\nelse\nX = a\\  \\\r\n $(w \\\n a)#\nendif\nd: ;\n\t>a\n\trm -f x\n\tt\nF = \\\\\\\\# \\\n d\n", AddRecipe None (codes "d") (At 4) (codes "say \"q\""), Accepted 1 0 (span 85 85 (codes "\tsay \"q\"\r\n") ∷ []) (Becomes (codes "ifdef A\r\nX?= -g -g\\\nb a# \\\n d\nelse\nX = a\\  \\\r\n $(w \\\n a)#\nendif\nd: ;\n\t>a\n\trm -f x\n\tt\n\tsay \"q\"\r\nF = \\\\\\\\# \\\n d\n"))) ∷  -- recipes-884
    (codes ".RECIPEPREFIX = >\nF\\\n= \\\nx=1 $  #\nd: ; true\n\t a\n # n\n\t a", AddRecipe None (codes "d") (At 1) (codes "true"), Accepted 1 0 (span 44 44 (codes ">true\n") ∷ []) (Becomes (codes ".RECIPEPREFIX = >\nF\\\n= \\\nx=1 $  #\nd: ; true\n>true\n\t a\n # n\n\t a"))) ∷  -- recipes-888
    (codes "A?= \t\r\nc: a\r\n>true\r\n> a\r\n>true\r\na.b\\\r\n= $(a\tb) a ", AddRecipe None (codes "c") (At 1) (codes "a"), Accepted 1 0 (span 13 13 (codes "\ta\r\n") ∷ []) (Becomes (codes "A?= \t\r\nc: a\r\n\ta\r\n>true\r\n> a\r\n>true\r\na.b\\\r\n= $(a\tb) a "))) ∷  -- recipes-893
    (codes "ifdef A\nF!= = -g \\\r\n b  -g \nelse\nF = -O2\t-O2\tb # c\nendif\nc:: ;\nendef \\\n  ?=  \\\n ", AddRecipe None (codes "c") (At 0) (codes ">a"), NotMade 1 Absent) ∷  -- recipes-895
    (codes "F!= |\\\r\n\t| \\\r\n# c\r\n", AddRecipe (Some 0) (codes "d") (At 1) (codes "a\0"), NotMade 1 (BadArgument field.Line)) ∷  -- recipes-901
    (codes ".RECIPEPREFIX = >\nifdef A\nF= -O2\nendif\nc&: # c\n>a # b\n>rm -f x\n># n\n \nF := \n", RemoveLines (OfRecipe None (codes "c") (ByText (codes "rm -f x"))), Accepted 0 1 (span 54 63 [] ∷ []) (Becomes (codes ".RECIPEPREFIX = >\nifdef A\nF= -O2\nendif\nc&: # c\n>a # b\n># n\n \nF := \n"))) ∷  -- recipes-907
    (codes "c:: # c\n\t a\n\trm -rf x\n\tt\nifdef:= 2 3  $(a b)\nc:\n\ttrue\n\tx \\ y\n\ttrue", SetRecipe (Some 1) (codes "c") (ByText (codes "t")) (codes "rm -f x"), Accepted 1 1 (span 23 24 (codes "rm -f x") ∷ []) (Becomes (codes "c:: # c\n\t a\n\trm -rf x\n\trm -f x\nifdef:= 2 3  $(a b)\nc:\n\ttrue\n\tx \\ y\n\ttrue"))) ∷  -- recipes-910
    (codes "F += \\\r\n -O2 a-g\r\nd: a | b\r\n\trm -rf \n|rue \\\r\n\ttrue\r\noverride!= #\r\na.b:= -O2 a\r\nF!= 1 a", SetRecipe (Some 2) (codes "d") (ByText (codes "# n")) (codes " a"), NotMade 1 NoSuch) ∷  -- recipes-911
    (codes "F = -g -O2 \\\r\n a\nc::\n\t>a\n\t# n\nifdef A\n\tifdef Q\nF+= ; b \n", SetRecipe None (codes "c") (ByText (codes "# n")) (codes "x \\ y"), Accepted 1 1 (span 26 29 (codes "x \\ y") ∷ []) (Becomes (codes "F = -g -O2 \\\r\n a\nc::\n\t>a\n\tx \\ y\nifdef A\n\tifdef Q\nF+= ; b \n"))) ∷  -- recipes-913
    (codes "ifdef A\r\na.b = =# \\\r\n d\r\nelse\r\nF ?=  -g\\\r\n \\\\\\\\ x$(a  b)# c\r\ne\ndif\r\nx.o&:\r\n", AddRecipe None (codes "x.o") (At 1) (codes "a # b"), Accepted 1 0 (span 75 75 (codes "\ta # b\r\n") ∷ []) (Becomes (codes "ifdef A\r\na.b = =# \\\r\n d\r\nelse\r\nF ?=  -g\\\r\n \\\\\\\\ x$(a  b)# c\r\ne\ndif\r\nx.o&:\r\n\ta # b\r\n"))) ∷  -- recipes-914
    (codes "ifdef A\nX ?= = -O2 ${v a\nelse\nF = a a\\ \\\n\\\nx=1  # \\\n d\nendif\nF= b a\ninclude&: # c\n\ttrue\n\tifdef Q", RemoveLines (OfRecipe None (codes "include") (ByText (codes "ifdef Q"))), NotMade 0 Reserved) ∷  -- recipes-918
    (codes ".RECIPEPREFIX ?= >\nd c: # c\nifeq (a,b)\n\tx \\ y\n", AddRecipe None (codes "d") (At 2) (codes "a # b"), NotMade 1 RecipePrefix) ∷  -- recipes-919
    (codes "\\\\\nverride F\\\n+= b\tb\t\\\\a\\\\\\\n\t= b #-g\n", AddRecipe (Some 0) (codes "include") (At 1) [], NotMade 1 Reserved) ∷  -- recipes-920
    (codes "F ::=$# b b\r\n.RECIPEPREFIX = \r\nc&: a\r\n\tt\r\n\ttrue\r\n\ta # b\r\n\ta\r\n%.o:: ; true\r\nelse\r\n\tt\r\n\t>a\r\nF =b\r\n", SetRecipe (Some 2) (codes "c") (ByText []) (codes "rm -f x"), NotMade 1 NoSuch) ∷  -- recipes-921
    (codes "export a.b =\\ b #-g\nd: ;\n\t# n\n\t a\nF+= \nifdef A\nF !=b a\\$ $\\\\\n\ta:b# c\nelse\nexport F= -O2 \nendif", SetRecipe None (codes "d") (ByText (codes "# n")) (codes "true"), Accepted 1 1 (span 26 29 (codes "true") ∷ []) (Becomes (codes "export a.b =\\ b #-g\nd: ;\n\ttrue\n\t a\nF+= \nifdef A\nF !=b a\\$ $\\\\\n\ta:b# c\nelse\nexport F= -O2 \nendif"))) ∷  -- recipes-924
    (codes "c: # c\n\t a\nc:: a | b\n\ta # b\nifdef A\nc&: ; true\n\ta\\\n b\nifdef A\n\ta # b", SetRecipe (Some 1) (codes "c") (ByText (codes " a")) (codes ">a"), Accepted 1 1 (span 8 10 (codes ">a") ∷ []) (Becomes (codes "c: # c\n\t>a\nc:: a | b\n\ta # b\nifdef A\nc&: ; true\n\ta\\\n b\nifdef A\n\ta # b"))) ∷  -- recipes-925
    (codes "c c: a | b\n\tifdef Q", AddRecipe None (codes "c") (At 2) (codes "a # b"), Accepted 1 0 (span 19 19 (codes "\n\ta # b\n") ∷ []) (Becomes (codes "c c: a | b\n\tifdef Q\n\ta # b\n"))) ∷  -- recipes-930
    (codes "F = x$(a  b) = \n", SetRecipe None (codes "c") (ByText (codes "true")) (codes "ifdef Q"), NotMade 1 NoSuch) ∷  -- recipes-934
    (codes "c&: ; true\nc: ;\n\t\\\n\n\tb\nF += \\\r\n ${v a a\n", SetRecipe (Some 2) (codes "c") (ByText (codes "a\0")) (codes "# n"), NotMade 1 (BadArgument field.Old)) ∷  -- recipes-935
    (codes "include&: # c\r\nelse\r\n  ", AddRecipe (Some 0) (codes "include") (At 1) (codes "ifdef Q"), NotMade 1 Reserved) ∷  -- recipes-937
    (codes "ifdef A\nF = \nendif\ninclude:: ; true\n\t>a\n\tb\nc:: # c\n\nendif", RemoveLines (OfRecipe None (codes "include") (ByText (codes "b"))), NotMade 0 Reserved) ∷  -- recipes-938
    (codes "d&: a | b\n\\\n# c\n", AddRecipe None (codes "d") (At 1) (codes "x \\ y"), Accepted 1 0 (span 10 10 (codes "\tx \\ y\n") ∷ []) (Becomes (codes "d&: a | b\n\tx \\ y\n\\\n# c\n"))) ∷  -- recipes-940
    (codes "c: # c\r\n\ttrue\r\n\ta # b\r\nendif\r\n\tx \\ y\r\n", RemoveLines (OfRecipe None (codes "c") (ByText (codes "true"))), Accepted 0 1 (span 8 15 [] ∷ []) (Becomes (codes "c: # c\r\n\ta # b\r\nendif\r\n\tx \\ y\r\n"))) ∷  -- recipes-941
    (codes "c:\r\n\ttrue\r\n\ta\r\noverride X = $$  a\r\n", RemoveLines (OfRecipe None (codes "c") (ByText (codes "true"))), Accepted 0 1 (span 4 11 [] ∷ []) (Becomes (codes "c:\r\n\ta\r\noverride X = $$  a\r\n"))) ∷  -- recipes-942
    (codes "d: # c\n\tx \\ y\n\t\\\n\n\ta # b\nF\\\n?=a \\\r\n -O2# c\noverride = \\\r\n -g\\\n\\\n-g\nc: a | b\n\ta # b\n\tifdef Q\\", RemoveLines (OfRecipe (Some 1) (codes "c") (ByText (codes "ifdef Q\\"))), NotMade 0 (BadArgument field.Old)) ∷  -- recipes-943
    (codes "F ::=; b \\\n \\\n -O2\\\nÃ©\\\n\\\n-g# a \\\\\nc: # c\nc: # c\n\ta\n\t\n# n\n\ta # b", SetRecipe (Some 2) (codes "c") (ByText (codes "a")) (codes ">a"), Accepted 1 1 (span 50 51 (codes ">a") ∷ []) (Becomes (codes "F ::=; b \\\n \\\n -O2\\\nÃ©\\\n\\\n-g# a \\\\\nc: # c\nc: # c\n\t>a\n\t\n# n\n\ta # b"))) ∷  -- recipes-947
    (codes "b::: \\\n$(p #) \\\n$(q:;=|) \n-include2 &: \\\r\n b  .PHONY \t${g(}\t\nX = \\\r\n -O2\t#\ninclude: a\nelse\n\ta\n\tx \\ y\n\t\nexport F = -g -O2", AddRecipe None (codes "include") (At 1) [], NotMade 1 Reserved) ∷  -- recipes-949
    (codes "d: a\n\t\ttrue\n\n", AddRecipe None (codes "d") (At 2) (codes "a"), Accepted 1 0 (span 12 12 (codes "\ta\n") ∷ []) (Becomes (codes "d: a\n\t\ttrue\n\ta\n\n"))) ∷  -- recipes-950
    (codes "ifdef A\nF = -O-O2\nelse\nexport F= a\\  ;\nendif\nt:: ifdef?= foo x.o\n$(q:;=|)\\&: %.o | \nd::\n\tt\n\ta\\\n b\n\ta\ninclude:: a\n>a\n>true", AddRecipe None (codes "d") (At 4) (codes "a"), Accepted 1 0 (span 101 101 (codes "\ta\n") ∷ []) (Becomes (codes "ifdef A\nF = -O-O2\nelse\nexport F= a\\  ;\nendif\nt:: ifdef?= foo x.o\n$(q:;=|)\\&: %.o | \nd::\n\tt\n\ta\\\n b\n\ta\n\ta\ninclude:: a\n>a\n>true"))) ∷  -- recipes-953
    (codes "c: ;\n\ttrue\n\t a\n\ttrue \\\r\n\ttrue\nF\\\n= | \\\n \\\n -g#-g\n\\\n#\\\\ ", AddRecipe None (codes "c") (At 2) (codes ">a"), Accepted 1 0 (span 11 11 (codes "\t>a\n") ∷ []) (Becomes (codes "c: ;\n\ttrue\n\t>a\n\t a\n\ttrue \\\r\n\ttrue\nF\\\n= | \\\n \\\n -g#-g\n\\\n#\\\\ "))) ∷  -- recipes-954
    (codes "x.o: ;\n>\ttrue\n>b\nifeq (a,b)\n>b\nifdef A\noverride override\\\n= x=1\\\n=\t\nelse\na.b\\\n+=\\\nb \\\n    |# \\\n d\nendif\n", AddRecipe (Some 1) (codes "x.o") (At 1) (codes "a"), Accepted 1 0 (span 7 7 (codes "\ta\n") ∷ []) (Becomes (codes "x.o: ;\n\ta\n>\ttrue\n>b\nifeq (a,b)\n>b\nifdef A\noverride override\\\n= x=1\\\n=\t\nelse\na.b\\\n+=\\\nb \\\n    |# \\\n d\nendif\n"))) ∷  -- recipes-955
    (codes "c: ;\n\t\ttrue\n\ttrue\nifdef A\nF ?= |\\\n\\\n\\\\ -g \\\r\n # a \\\\\nelse\nexport F =\\\nb -g \\#\\\n -g\nendif\nF += $(t \\\n -g) \n\t\nX ::= -O2# a \\\\\n", AddRecipe (Some 1) (codes "c") (At 2) (codes "say \"q\""), Accepted 1 0 (span 12 12 (codes "\tsay \"q\"\n") ∷ []) (Becomes (codes "c: ;\n\t\ttrue\n\tsay \"q\"\n\ttrue\nifdef A\nF ?= |\\\n\\\n\\\\ -g \\\r\n # a \\\\\nelse\nexport F =\\\nb -g \\#\\\n -g\nendif\nF += $(t \\\n -g) \n\t\nX ::= -O2# a \\\\\n"))) ∷  -- recipes-957
    (codes "ifdef A\nX ::= b a\nendif\nc: a\n\noverride = \\\n \\\n -g#\n", SetRecipe (Some 2) (codes "c") (ByText (codes "\ttrue")) (codes "# n"), NotMade 1 NoSuch) ∷  -- recipes-959
    (codes "include: ;\r\n>rm -rf x\r\nifdef A\r\nifdef A\r\nifdef A\r\nF?= b \\\r\n b $x \\\r\n \\\r\n -g\r\nendif", AddRecipe None (codes "include") (At 1) (codes "a"), NotMade 1 Reserved) ∷  -- recipes-960
    (codes "F= \\\r\n \\\r\n = a\\$ a\\\\ \r\nc:\r\n>ifdef Q\r\n\r\n>\ttrue\r\ndefine .RECIPEPREFIX\r\nexport F=-g# c\r\n", RemoveLines (OfRecipe None (codes "c") (ByText [])), NotMade 0 RecipePrefix) ∷  -- recipes-961
    (codes "c: a\nd: # c\ta # b\n\t\ttrue\n\t a\n\ttrue\nF+=-O2 \\\r\n b \\\n", AddRecipe None (codes "d") (At 3) (codes "\ttrue"), Accepted 1 0 (span 29 29 (codes "\t\ttrue\n") ∷ []) (Becomes (codes "c: a\nd: # c\ta # b\n\t\ttrue\n\t a\n\t\ttrue\n\ttrue\nF+=-O2 \\\r\n b \\\n"))) ∷  -- recipes-964
    (codes "c: ;\n>>a\n># n\n", AddRecipe None (codes "c") (At 2) (codes "true"), NotMade 1 Absent) ∷  -- recipes-967
    (codes "\tc ${c} ::X$: !=\\\n\\\na b $\\\n  \n", AddRecipe None (codes "include") (At 1) (codes "true"), NotMade 1 Reserved) ∷  -- recipes-968
    (codes "c: a\n\t\\\n\n\tifdef Q\n\t a\n\ttrue\noverride = a a\\ # \\\n d\nF\\\n= a b b \n", AddRecipe None (codes "c") (At 2) (codes "x \\ y"), Accepted 1 0 (span 9 9 (codes "\tx \\ y\n") ∷ []) (Becomes (codes "c: a\n\t\\\n\n\tx \\ y\n\tifdef Q\n\t a\n\ttrue\noverride = a a\\ # \\\n d\nF\\\n= a b b \n"))) ∷  -- recipes-970
    (codes "d&: # c\nifdef A\n# n\n\ta\nc&:\n\tsay \"q\"\n\tt\n\ta # b\n\ta \\\n\tb\n", SetRecipe (Some 0) (codes "d") (ByText (codes "\ttrue")) (codes "a"), NotMade 1 NoSuch) ∷  -- recipes-971
    (codes "c include:\r\nF := x=1 $(a\tb) \\\r\n \\\r\n a\\\\#-g\r\nd: ;\r\n>\r\n# n\r\n>a\r\n>rm -rf x\r\n", RemoveLines (OfRecipe None (codes "include") (ByText (codes "x \\ y"))), NotMade 0 Reserved) ∷  -- recipes-974
    (codes "c: # c\n\ta \\\n\tb\n\ttrue\n # n\n #\\\\\\\n\n", SetRecipe None (codes "c") (ByText (codes "true")) (codes ">a"), Accepted 1 1 (span 16 20 (codes ">a") ∷ []) (Becomes (codes "c: # c\n\ta \\\n\tb\n\t>a\n # n\n #\\\\\\\n\n"))) ∷  -- recipes-975
    (codes "c: # c\n\t\n\tifdef Q\n\t\nF\\\n:= -g -g\nd: # c\n>\ttrue\nF=\\\n=\tb\\\n\t-g \\\n$#\\\n -g\nF\\\n?= -g\n", SetRecipe None (codes "c") (ByText []) (codes "# n"), NotMade 1 (Ambiguous 2)) ∷  -- recipes-976
    []

answers_7 : map (λ row. account row.0 row.1) rows_7 ≡ map (λ row. row.2) rows_7
answers_7 = refl

abbrev rows_8 : List (List ℕ × Edit × Account)
rows_8 =
    (codes "c:\r\n\ttrue\r\n\t# n\r\nc: ;\r\n\r\n>true\r\n", AddRecipe (Some 2) (codes "c") (At 1) (codes "true"), Accepted 1 0 (span 23 23 (codes "\ttrue\r\n") ∷ []) (Becomes (codes "c:\r\n\ttrue\r\n\t# n\r\nc: ;\r\n\ttrue\r\n\r\n>true\r\n"))) ∷  -- recipes-978
    (codes "F\\\n= $$ \nc: ;\n\trm -f x\nX= \n", AddRecipe (Some 1) (codes "c") (At 1) (codes "ifdef Q"), Accepted 1 0 (span 14 14 (codes "\tifdef Q\n") ∷ []) (Becomes (codes "F\\\n= $$ \nc: ;\n\tifdef Q\n\trm -f x\nX= \n"))) ∷  -- recipes-984
    (codes "F = $$ \\ b -O2 # a \\\\\n$(s\\): | \\\n \\\n  \nc: ;\n\t>a\nF = $# |\\\n\\\nx=1 \n # n\n\ta\\\n>b\n.RECIPEPREFIX = >\na.b= \\\n \\\n a$  =  -g# \\\n d", RemoveLines (OfRecipe (Some 1) (codes "c") (ByText (codes ">a"))), Accepted 0 1 (span 44 48 [] ∷ []) (Becomes (codes "F = $$ \\ b -O2 # a \\\\\n$(s\\): | \\\n \\\n  \nc: ;\nF = $# |\\\n\\\nx=1 \n # n\n\ta\\\n>b\n.RECIPEPREFIX = >\na.b= \\\n \\\n a$  =  -g# \\\n d"))) ∷  -- recipes-986
    (codes "c:\r\n\t\r\n\ta\r\n\t\\\r\n\r\n", RemoveLines (OfRecipe None (codes "c") (ByText (codes "a"))), Accepted 0 1 (span 7 11 [] ∷ []) (Becomes (codes "c:\r\n\t\r\n\t\\\r\n\r\n"))) ∷  -- recipes-987
    (codes "F =|\ta\\\r\n\\\r\n-O2\\\r\n = a\\$\r\nc:\r\n\tt\r\n\t\r\n\tt\r\nF\\\r\n+= b\r\n", SetRecipe (Some 1) (codes "c") (ByText []) [], Accepted 1 1 (span 35 35 [] ∷ []) (Becomes (codes "F =|\ta\\\r\n\\\r\n-O2\\\r\n = a\\$\r\nc:\r\n\tt\r\n\t\r\n\tt\r\nF\\\r\n+= b\r\n"))) ∷  -- recipes-988
    (codes "c: a\n \n\ta\nF =a$ #-g\n", AddRecipe None (codes "c") (At 2) (codes "true"), Accepted 1 0 (span 10 10 (codes "\ttrue\n") ∷ []) (Becomes (codes "c: a\n \n\ta\n\ttrue\nF =a$ #-g\n"))) ∷  -- recipes-990
    (codes ".RECIPEPREFIX = >\r\nd d: # c\n>>a\n>x \\ y\nifeq (a,b)\n>true\nX ::= | -g\nc&:", AddRecipe None (codes "c") (At 1) (codes "true"), Accepted 1 0 (span 70 70 (codes "\r\n>true\r\n") ∷ []) (Becomes (codes ".RECIPEPREFIX = >\r\nd d: # c\n>>a\n>x \\ y\nifeq (a,b)\n>true\nX ::= | -g\nc&:\r\n>true\r\n"))) ∷  -- recipes-992
    (codes ":|\r\r\nab\r\n\n &: override ?=\nc: ; true\nF= | a $x \n\ta\\\\\noverride  export \tendef :=\\\n\t\\\r\n \nc: a", AddRecipe (Some 2) (codes "c") (At 1) (codes "true"), Accepted 1 0 (span 90 90 (codes "\r\n\ttrue\r\n") ∷ []) (Becomes (codes ":|\r\r\nab\r\n\n &: override ?=\nc: ; true\nF= | a $x \n\ta\\\\\noverride  export \tendef :=\\\n\t\\\r\n \nc: a\r\n\ttrue\r\n"))) ∷  -- recipes-995
    (codes "x.o&: ; true\n", AddRecipe None (codes "x.o") (At 1) (codes "b"), Accepted 1 0 (span 13 13 (codes "\tb\n") ∷ []) (Becomes (codes "x.o&: ; true\n\tb\n"))) ∷  -- recipes-996
    (codes "ifdef A\nX = | |\nelse\nF\\\n= -g a\nendif\n", SetRecipe None (codes "include") (ByText (codes "say \"q\"")) (codes ">a"), NotMade 1 Reserved) ∷  -- recipes-997
    (codes "c c: ; true\n\ta # b\n\ttrue\n\trm -f x", RemoveLines (OfRecipe None (codes "c") (ByText (codes "rm -f x"))), Accepted 0 1 (span 25 33 [] ∷ []) (Becomes (codes "c c: ; true\n\ta # b\n\ttrue\n"))) ∷  -- recipes-1009
    (codes "c:\r\n\tifdef Q\r\n", AddRecipe None (codes "c") (At 1) (codes "ifdef Q"), Accepted 1 0 (span 4 4 (codes "\tifdef Q\r\n") ∷ []) (Becomes (codes "c:\r\n\tifdef Q\r\n\tifdef Q\r\n"))) ∷  -- recipes-1011
    (codes "X::= $(s (b) a) a:b \\\n \\\n a -g -g \nt1\\\n\t\\\r\n:::=  .PHONY\\\\\\\n# x ; y : z = 1\nF := x=1\nd d:\n\t\ttrue\n\ttrue\nX += a\\$ ${c}\\\n$  #\n", SetRecipe (Some 2) (codes "d") (ByText (codes "\ttrue")) (codes "\\"), NotMade 1 (BadArgument field.Line)) ∷  -- recipes-1012
    (codes "\t \r\nc c&: a | b\nifdef A\n\tifdef Q\nc %.o: # c\n", RemoveLines (OfRecipe None (codes "include") (ByText (codes "a # b"))), NotMade 0 Reserved) ∷  -- recipes-1015
    (codes "a.b =\r\nc: a\r\nelse\r\n>rm -rf x\r\n>\r\nF::= -O2\\\r\n\t-O2 \r\n", AddRecipe None (codes "c") (At 1) [], Accepted 1 0 (span 13 13 (codes "\t\r\n") ∷ []) (Becomes (codes "a.b =\r\nc: a\r\n\t\r\nelse\r\n>rm -rf x\r\n>\r\nF::= -O2\\\r\n\t-O2 \r\n"))) ∷  -- recipes-1016
    (codes "a.b :=foo \nF != b  a:b\\\na:b\nc: ; true\n\t a\n\ttrue\nc: ;\n\t\n\tsay \"q\"\nc&: ;\n", AddRecipe (Some 1) (codes "c") (At 2) (codes "ifdef Q"), Accepted 1 0 (span 42 42 (codes "\tifdef Q\n") ∷ []) (Becomes (codes "a.b :=foo \nF != b  a:b\\\na:b\nc: ; true\n\t a\n\tifdef Q\n\ttrue\nc: ;\n\t\n\tsay \"q\"\nc&: ;\n"))) ∷  -- recipes-1018
    (codes "c: ;\n # n\nifdef A\nexport F = a\\\\ \\\n \\\n b\\\n=\t| \nelse\nF\\\n!= a  a:b \\\n \\\n a\\\\ a#\nendif\nifdef A\noverride\\\n= -g b \nelse\noverride F = -O2 b a\\\n\t$x \\\n    a$\\ \nendif\nF = \nX ::= a a b # a \\\\\n", AddRecipe None (codes "c") (At 4294967295) (codes "\\"), NotMade 1 (BadArgument field.Line)) ∷  -- recipes-1020
    (codes "F +=a:b $(A -g) b\nc: ;\n>b\n>true\n>\ttrue", AddRecipe None (codes "c") (At 1) (codes ">a"), Accepted 1 0 (span 23 23 (codes "\t>a\n") ∷ []) (Becomes (codes "F +=a:b $(A -g) b\nc: ;\n\t>a\n>b\n>true\n>\ttrue"))) ∷  -- recipes-1022
    (codes "c:\nifdef A\n\t# n\n\trm -f x\nelse\nc: ; true\n\t# n\nc c: ; true\nF = $(s (b) a)\n\t\ttrue\n\t>a\n\tx \\ y\n", AddRecipe (Some 1) (codes "c") (At 3) (codes "true"), NotMade 1 Straddles) ∷  -- recipes-1024
    (codes "F\\\n:= a\\$\\\n\\\n$(s (b) a) \nF = b \n", AddRecipe None (codes "include") (At 1) (codes "ifdef Q"), NotMade 1 Reserved) ∷  -- recipes-1025
    (codes "include:: a | b\n\trm -f x\n \n$(p #) : $(q:;=|) $(p #)  $x#\0\n", RemoveLines (OfRecipe None (codes "include") (ByText (codes "rm -f x"))), NotMade 0 Reserved) ∷  -- recipes-1027
    (codes "X\\\n=b -g x=1\nc: a | b\nX =x=1 a $#\nF+= -O2\nifdef A\noverride != =\nelse\nF = a\\  b\\\n $\\\n |# a \\\\\nendif\n", AddRecipe None (codes "c") (At 4294967295) (codes " a"), NotMade 1 Absent) ∷  -- recipes-1031
    (codes ".RECIPEPREFIX = >\nc: ;\n>ifdef Q\n>\\\n\n>true\n", SetRecipe None (codes "c") (ByText (codes "ifdef Q")) (codes "b"), Accepted 1 1 (span 24 31 (codes "b") ∷ []) (Becomes (codes ".RECIPEPREFIX = >\nc: ;\n>b\n>\\\n\n>true\n"))) ∷  -- recipes-1032
    (codes "include: a\n>b\nelse\nexport export >q+= \\\n\r$(q:;=|) x  y # x ; y : z = 1\n", RemoveLines (OfRecipe None (codes "include") (ByText (codes "true"))), NotMade 0 Reserved) ∷  -- recipes-1034
    (codes "$x \t: :$(q:;=|) ;\\\n%.c $(f {)#\\\\\\\n\nc c&: a | b\n\t a\n\tifdef Q", SetRecipe None (codes "c") (ByText (codes " a")) (codes "\ttrue"), Accepted 1 1 (span 48 50 (codes "\ttrue") ∷ []) (Becomes (codes "$x \t: :$(q:;=|) ;\\\n%.c $(f {)#\\\\\\\n\nc c&: a | b\n\t\ttrue\n\tifdef Q"))) ∷  -- recipes-1036
    (codes "d: ;\n\ttrue\n", SetRecipe None (codes "d") (ByText (codes "true")) (codes "a # b"), Accepted 1 1 (span 6 10 (codes "a # b") ∷ []) (Becomes (codes "d: ;\n\ta # b\n"))) ∷  -- recipes-1037
    (codes "d: a\n\ttrue\nd %: a | b\nelse\nF := b \\\n    b -O2 =#\n\t\nX = -g ", SetRecipe None (codes "%") (ByText (codes "rm -rf x")) (codes "a\r"), NotMade 1 (BadArgument field.Line)) ∷  -- recipes-1040
    (codes "c c: # c\n\t\n\ttrue\n\trm -rf x\noverride F += # c\nF?=; \\\r\n -O2  \\ b \\\n    a\n\\\n#\\\\", RemoveLines (OfRecipe None (codes "c") (ByText (codes "rm -rf x"))), Accepted 0 1 (span 17 27 [] ∷ []) (Becomes (codes "c c: # c\n\t\n\ttrue\noverride F += # c\nF?=; \\\r\n -O2  \\ b \\\n    a\n\\\n#\\\\"))) ∷  -- recipes-1041
    (codes "include: ; true\nelse\n\ttrue\nX ::= ;\\\n b =\nF= # a \\\\\nX !=c \nF\\\n!= = $ #-g", RemoveLines (OfRecipe None (codes "include") (ByText (codes "a"))), NotMade 0 Reserved) ∷  -- recipes-1042
    (codes "include: # c\r\n\ty\r\n\ttrue\r\n# n\r\n\ttrue\r\n", AddRecipe None (codes "include") (At 4) (codes "true"), NotMade 1 Reserved) ∷  -- recipes-1052
    (codes "define:: a\nexpbrt F?= $\\\n", RemoveLines (OfRecipe (Some 0) (codes "define") (ByText (codes "a"))), NotMade 0 Reserved) ∷  -- recipes-1055
    (codes ".RECIPEPREFIX = >\nF\\\n== \\\n    -g a$   $$ \\\n-O2\na.b = =\\\n\\\n-O2 \\\\\\\\\\\n\t\ninclude: # c\nelse", AddRecipe None (codes "include") (At 1) (codes "b"), NotMade 1 Reserved) ∷  -- recipes-1059
    (codes "F\\\r\n= |  ; x=1 # \\\r\n d\r\nc c:\r\n\tx \\ y\r\n\r\n\t\r\nX = =\t# a \\\\\r\n", SetRecipe None (codes "c") (ByText []) (codes "true"), Accepted 1 1 (span 41 41 (codes "true") ∷ []) (Becomes (codes "F\\\r\n= |  ; x=1 # \\\r\n d\r\nc c:\r\n\tx \\ y\r\n\r\n\ttrue\r\nX = =\t# a \\\\\r\n"))) ∷  -- recipes-1060
    (codes "F ?= a \\\n$(s (b) a)\\\n ${v a \\\n \\\n ; #\nF\\\n::= ${v a $(s (b) a)#\nc:: ; true\n\t\n\ttrue\noverride += -O2# a \\\\\nF\\\n=\n", SetRecipe None (codes "c") (ByText (codes "true")) (codes "\ttrue"), Accepted 1 1 (span 77 81 (codes "\ttrue") ∷ []) (Becomes (codes "F ?= a \\\n$(s (b) a)\\\n ${v a \\\n \\\n ; #\nF\\\n::= ${v a $(s (b) a)#\nc:: ; true\n\t\n\t\ttrue\noverride += -O2# a \\\\\nF\\\n=\n"))) ∷  -- recipes-1062
    (codes "include: ;\n\t\n\ta\\\n b\n\tx \\ y\n\t", SetRecipe None (codes "include") (ByText (codes "x \\ y")) (codes "\ttrue"), NotMade 1 Reserved) ∷  -- recipes-1065
    (codes "override=  b \\\n \\\n a\nc: # c\n\ta\\\\\n\tifdef Q\n\tx \\ y\nX ?=  \na.b ?=  \nifdef A\noverride F\\\n::= ; -O2 b  -g\nelse\nX!= a \\ b x=1 \\\n    b# c\nendif\n", RemoveLines (OfRecipe (Some 1) (codes "c") (ByText (codes "a\\\\"))), NotMade 0 (BadArgument field.Old)) ∷  -- recipes-1072
    (codes "c&: a\n\ty\r\n\t a\n\t\n", SetRecipe None (codes "c") (ByText (codes "y")) (codes "say \"q\""), Accepted 1 1 (span 7 8 (codes "say \"q\"") ∷ []) (Becomes (codes "c&: a\n\tsay \"q\"\r\n\t a\n\t\n"))) ∷  -- recipes-1092
    (codes "x.o: ; true\n\tx \\ y\n\t>a\nc&: # c\n\tsay \"q\"\n\tb\n\tifdef Q\n\tt\nc: ;\n\tx \\ y\n\t\ninclude: ;\n\ta # b\n\t\ttrue\nc:\n\ta\n\t a\nifdef A", SetRecipe None (codes "include") (ByText (codes "a # b")) (codes "b"), NotMade 1 Reserved) ∷  -- recipes-1095
    (codes "include: a | b\nx.o: a\n\t# n\n\ttrue\n\ty\r\nifdef A\nX= x$(a  b) x=1 \\\r\n -O2\nendif\n", RemoveLines (OfRecipe None (codes "include") (ByText (codes " a"))), NotMade 0 Reserved) ∷  -- recipes-1101
    (codes "c:: # c\r\n\ttrue\r\nF\\\r\n!=\\\r\n\\\r\n$(s (b) a) a x=1\r\n", SetRecipe None (codes "c") (ByText (codes "true")) (codes "rm -f x"), Accepted 1 1 (span 10 14 (codes "rm -f x") ∷ []) (Becomes (codes "c:: # c\r\n\trm -f x\r\nF\\\r\n!=\\\r\n\\\r\n$(s (b) a) a x=1\r\n"))) ∷  -- recipes-1108
    (codes "a.b = $#\\\n\\\n\\ -g $(a\tb) \\\\\nc: # c\n\trm -f x\n\trm -rf x\nifdef A\noverride\\\n= $(a\tb)\nelse\nF = -g \\\n \\\n -g =\nendif\nF :=$\\ \\\n \\\n Ã© $ \\\n \\\n $(t \\\n -g) \nF\\\n:= ", SetRecipe None (codes "c") (ByText (codes "rm -f x")) (codes ">a"), Accepted 1 1 (span 35 42 (codes ">a") ∷ []) (Becomes (codes "a.b = $#\\\n\\\n\\ -g $(a\tb) \\\\\nc: # c\n\t>a\n\trm -rf x\nifdef A\noverride\\\n= $(a\tb)\nelse\nF = -g \\\n \\\n -g =\nendif\nF :=$\\ \\\n \\\n Ã© $ \\\n \\\n $(t \\\n -g) \nF\\\n:= "))) ∷  -- recipes-1111
    (codes "d&: a\nifdef A\n\ttrue\n# \\\n n\nF = a:b -g \\\n \\\n b\nexport F= -g -O2 b\nifdef A\nF\\\n= -g x=1 \\\r\n -O2# a \\\\\nelse\na.b =a\\$ \nendif\n", RemoveLines (OfRecipe None (codes "d") (ByText (codes "true"))), Accepted 0 1 (span 14 20 [] ∷ []) (Becomes (codes "d&: a\nifdef A\n# \\\n n\nF = a:b -g \\\n \\\n b\nexport F= -g -O2 b\nifdef A\nF\\\n= -g x=1 \\\r\n -O2# a \\\\\nelse\na.b =a\\$ \nendif\n"))) ∷  -- recipes-1116
    (codes "c:: ;\r\n\ttrue\r\nexport F =-O2", SetRecipe None (codes "c") (ByText (codes "true")) (codes "x \\ y"), Accepted 1 1 (span 8 12 (codes "x \\ y") ∷ []) (Becomes (codes "c:: ;\r\n\tx \\ y\r\nexport F =-O2"))) ∷  -- recipes-1118
    (codes "c:\n\tsay \"q\"\n\t# n\n\ta\\\n b\n", AddRecipe None (codes "c") (At 5) (codes "ifdef Q"), NotMade 1 Absent) ∷  -- recipes-1121
    (codes " #\\\\\\\n\ninclude:\n # n\nelse\n# \\\n n\nF = -g #\n", AddRecipe None (codes "include") (At 1) (codes "\ttrue"), NotMade 1 Reserved) ∷  -- recipes-1126
    (codes "x.o: ; true\n\tt\n\ttrue\n\t a\nc c: ;\nX ?= $  =\\\n-g \\\n \\\n a:b -O2\n", AddRecipe None (codes "c") (At 2) (codes "rm -rf x"), NotMade 1 Absent) ∷  -- recipes-1127
    (codes "F != ${c} \\\n$(t \\\n -g)\nF!= \\\n \nc:\n\tt\n\t\nc&: ; true\n\tsay \"q\"\n\trm -rf x\n", RemoveLines (OfRecipe (Some 1) (codes "c") (ByText (codes "t"))), Accepted 0 1 (span 34 37 [] ∷ []) (Becomes (codes "F != ${c} \\\n$(t \\\n -g)\nF!= \\\n \nc:\n\t\nc&: ; true\n\tsay \"q\"\n\trm -rf x\n"))) ∷  -- recipes-1128
    (codes "d&: ;\nifeq (a,b)\n\tsay \"q\"\n\t a\n\t# n\n", SetRecipe (Some 1) (codes "d") (ByText (codes " a")) (codes "# n"), Accepted 1 1 (span 27 29 (codes "# n") ∷ []) (Becomes (codes "d&: ;\nifeq (a,b)\n\tsay \"q\"\n\t# n\n\t# n\n"))) ∷  -- recipes-1129
    (codes "overdefineide F ::= a$  b \ninclude: # c\n", SetRecipe None (codes "include") (ByText []) (codes "a"), NotMade 1 Reserved) ∷  -- recipes-1143
    (codes "c:\nF:= -g = $x -g#-g\n>true \\\r\n\ttrue\nendif\n>rm -f x\nF?= a \\\n    $$ \\\r\n -g a a \nifdef A\nF= # a \\\\\nendif\nX\\\n= a b \\\na\\$ a\nc&: # c\n\ta\n\tt\n", RemoveLines (OfRecipe (Some 2) (codes "c") (ByText (codes "t"))), Accepted 0 1 (span 130 133 [] ∷ []) (Becomes (codes "c:\nF:= -g = $x -g#-g\n>true \\\r\n\ttrue\nendif\n>rm -f x\nF?= a \\\n    $$ \\\r\n -g a a \nifdef A\nF= # a \\\\\nendif\nX\\\n= a b \\\na\\$ a\nc&: # c\n\ta\n"))) ∷  -- recipes-1146
    []

answers_8 : map (λ row. account row.0 row.1) rows_8 ≡ map (λ row. row.2) rows_8
answers_8 = refl

abbrev rows_9 : List (List ℕ × Edit × Account)
rows_9 =
    (codes "c: a\n>a \\\n\tb\n \\\n\t::\tprivate ifdef\t:=  \\\n  \nc: a\nifdef A\n\ta\\\\\n\ta\nX = = #\n", AddRecipe (Some 2) (codes "c") (At 1) (codes "true"), NotMade 1 Straddles) ∷  -- recipes-1148
    (codes "$x x.o ::define?=  # c\n", RemoveLines (OfRecipe None (codes "include") (ByText (codes "a # b"))), NotMade 0 Reserved) ∷  -- recipes-1150
    (codes "c c: # c\r\n\t\r\n\tb\r\n\ta\r\n\t# n\r\nc: ; true\r\n\tsay \"q\"\r\n\r\nexport override\\\r\n?=-O2 = a$\\# \\\r\n d\r\n # ", RemoveLines (OfRecipe (Some 2) (codes "c") (ByText (codes "say \"q\""))), Accepted 0 1 (span 38 48 [] ∷ []) (Becomes (codes "c c: # c\r\n\t\r\n\tb\r\n\ta\r\n\t# n\r\nc: ; true\r\n\r\nexport override\\\r\n?=-O2 = a$\\# \\\r\n d\r\n # "))) ∷  -- recipes-1159
    (codes "d&: ;\n\t# n\n\t\n\tifdef Q\n\t>a", AddRecipe (Some 2) (codes "include") (At 1) (codes "b"), NotMade 1 Reserved) ∷  -- recipes-1172
    (codes "d:: ;\n\t a\nF\\\n::= \\ b \n\ttrue\nF=-O2", SetRecipe None (codes "d") (ByText (codes " a")) (codes "# n"), Accepted 1 1 (span 7 9 (codes "# n") ∷ []) (Becomes (codes "d:: ;\n\t# n\nF\\\n::= \\ b \n\ttrue\nF=-O2"))) ∷  -- recipes-1177
    (codes "x.o: a\n\t a\n\ttrue\nc: a | b\n\ta\\\n>b\n\t\ninclude: a\nifeq (a,b)\n# \\\n n\n\ttrue\nifdef A\na.b\\\n= a | \\\r\n \nendif", SetRecipe None (codes "c") (ByText []) (codes "a\0"), NotMade 1 (BadArgument field.Line)) ∷  -- recipes-1180
    (codes ": ; ue\r\n\ta  b\r\n\t a\r\nc:\r\n\tifdef Q\r\n\tb\r\n", RemoveLines (OfRecipe None (codes "c") (ByText (codes "b"))), Accepted 0 1 (span 34 38 [] ∷ []) (Becomes (codes ": ; ue\r\n\ta  b\r\n\t a\r\nc:\r\n\tifdef Q\r\n"))) ∷  -- recipes-1190
    (codes "x.o: ;\n\t\n", RemoveLines (OfRecipe None (codes "x.o") (ByText [])), Accepted 0 1 (span 7 9 [] ∷ []) (Becomes (codes "x.o: ;\n"))) ∷  -- recipes-1191
    (codes "F= -g ${v a -O2 \\\n \\\n #-g\nc: ;\n\t a\n\t\n # n\nc:\n\t\n# n\n\ttrue\n\t#\\\\\n", SetRecipe None (codes "c") (ByText (codes "a")) (codes "true"), NotMade 1 (Ambiguous 2)) ∷  -- recipes-1195
    (codes "c: # c\n# n\n\trm -f x\nd:: # c\nelse\n# n\n\t\ttrue\n\tx \\ y\n", SetRecipe (Some 1) (codes "d") (ByText (codes "a\\")) (codes " a"), NotMade 1 (BadArgument field.Old)) ∷  -- recipes-1198
    (codes "c:: # c\n\ttrue\n\t# n\n # n", SetRecipe None (codes "c") (ByText (codes "# n")) (codes "a # b"), Accepted 1 1 (span 15 18 (codes "a # b") ∷ []) (Becomes (codes "c:: # c\n\ttrue\n\ta # b\n # n"))) ∷  -- recipes-1201
    (codes "ifdef A\nX += a\\$\\\n $  \\\n    -g -g\nendif\nc:\nifdef A\n\t\n\trm -rf x\nc:\n\tx \\ y\n\t\\\n\n\tifdef Q\nX\\\n= =\\\n ${c}\\\n x=1\n%.o&: a\n# \\\n n\n", AddRecipe (Some 1) (codes "c") (At 3) (codes " a"), NotMade 1 Straddles) ∷  -- recipes-1211
    (codes "export F+=\\ b\r\nexport F += Ã©\r\nc&:\r\n\tifdef Q\r\n", SetRecipe (Some 4294967295) (codes "c") (ByText (codes "a\r")) (codes "true"), NotMade 1 (BadArgument field.Old)) ∷  -- recipes-1212
    (codes "c::\n\ta # b\n", SetRecipe None (codes "c") (ByText (codes "a # b")) (codes "a"), Accepted 1 1 (span 5 10 (codes "a") ∷ []) (Becomes (codes "c::\n\ta\n"))) ∷  -- recipes-1216
    (codes "c: a | b\nF = | \nc:: ;\n\tb\nifeq (a,b)\n # n\n\t>a\nifdef A\na.b= -g# a \\\\\nelse\nF ::= $(a b) $x a:b #\nendif\nc:\\", AddRecipe (Some 2) (codes "c") (At 2) (codes "ifdef Q"), NotMade 1 Straddles) ∷  -- recipes-1218
    (codes "X = b b\\\n\t${c}\nifdef A\nF!=#-g\nendif\nd: a\n\ta # b\n\ta\n\t\n%.o: a\n>true\n>\n>\n>\ttrue\nX != $(a\tb)\\\n\\\n=\\\n= \\\r\n -O2", SetRecipe None (codes "d") (ByText (codes "a # b")) (codes ">a"), Accepted 1 1 (span 42 47 (codes ">a") ∷ []) (Becomes (codes "X = b b\\\n\t${c}\nifdef A\nF!=#-g\nendif\nd: a\n\t>a\n\ta\n\t\n%.o: a\n>true\n>\n>\n>\ttrue\nX != $(a\tb)\\\n\\\n=\\\n= \\\r\n -O2"))) ∷  -- recipes-1221
    (codes "%.o: a | b\n\t# n\nF\\\n+=\\\n\\\n$(A -g)\n\ttrue\n\ttrue\nF\\\n!=\\\n\\\nb\nF += -O2 \\\\\\\\\n", SetRecipe None (codes "%.o") (ByText (codes "# n")) (codes "# n"), Accepted 1 1 (span 12 15 (codes "# n") ∷ []) (Becomes (codes "%.o: a | b\n\t# n\nF\\\n+=\\\n\\\n$(A -g)\n\ttrue\n\ttrue\nF\\\n!=\\\n\\\nb\nF += -O2 \\\\\\\\\n"))) ∷  -- recipes-1222
    (codes "c: ; true\n\tx \\ y\n\tt\\\n", AddRecipe None (codes "c") (At 4) (codes " a"), NotMade 1 Absent) ∷  -- recipes-1223
    (codes "F::=a\nc: a | b\n>t\n>x \\ y\n>b\nX+=$(w \\\n a)\\\n\\\n-g |# \\\n d\nifdef A\nF :=\\\n\\\na\\\\ b -O2\nelse\noverride= $(w \\\n a) \nendif\n", SetRecipe None (codes "c") (ByText (codes "\ttrue")) (codes "a\\"), NotMade 1 (BadArgument field.Line)) ∷  -- recipes-1227
    (codes "c c: ; true\n\trm -f x\n\tx \\ y\n\trm -f x\nc:: # c\n# n", AddRecipe None (codes "c") (At 1) (codes "true"), NotMade 1 (Ambiguous 2)) ∷  -- recipes-1233
    (codes "d:: a | b\r\n\ta # b\r\n\tifdef Q\r\n\tsay \"q\"\r\n", SetRecipe None (codes "d") (ByText (codes "a # b")) (codes "rm -f x"), Accepted 1 1 (span 12 17 (codes "rm -f x") ∷ []) (Becomes (codes "d:: a | b\r\n\trm -f x\r\n\tifdef Q\r\n\tsay \"q\"\r\n"))) ∷  -- recipes-1234
    (codes "export a.b = b  a\r\nF= x=1 a:b b\r\nexport X\\\r\n!= b -O2\r\nc:\r\n\ttrue \\\r\n\ttrue\r\n\t\r\n", RemoveLines (OfRecipe None (codes "c") (ByText [])), Accepted 0 1 (span 74 77 [] ∷ []) (Becomes (codes "export a.b = b  a\r\nF= x=1 a:b b\r\nexport X\\\r\n!= b -O2\r\nc:\r\n\ttrue \\\r\n\ttrue\r\n"))) ∷  -- recipes-1236
    (codes "c: ;\n\t\na.b += \nc::\n>a # b\n>\noverride = $x $(u# a \\\\\na.b= -O2#-g\n", RemoveLines (OfRecipe (Some 1) (codes "c") (ByText [])), Accepted 0 1 (span 5 7 [] ∷ []) (Becomes (codes "c: ;\na.b += \nc::\n>a # b\n>\noverride = $x $(u# a \\\\\na.b= -O2#-g\n"))) ∷  -- recipes-1240
    (codes "c:\r\n>a\\\n>b\n>true\nc: # c\n\ttrue\n", SetRecipe (Some 2) (codes "c") (ByText (codes "true")) [], Accepted 1 1 (span 25 29 [] ∷ []) (Becomes (codes "c:\r\n>a\\\n>b\n>true\nc: # c\n\t\n"))) ∷  -- recipes-1242
    (codes "d: a | b\n\tifdef Q", SetRecipe None (codes "d") (ByText (codes "ifdef Q")) (codes "ifdef Q"), Accepted 1 1 (span 10 17 (codes "ifdef Q") ∷ []) (Becomes (codes "d: a | b\n\tifdef Q"))) ∷  -- recipes-1248
    (codes "override a.b\\\n+= b a |\\\n\\\n-g  b \nF\\\n::==\\\n\\\n;\n%.o: a | b\nifeq (a,b)\n\tx \\ y\n", SetRecipe None (codes "%.o") (ByText (codes "x \\ y")) (codes "a # b"), Accepted 1 1 (span 69 74 (codes "a # b") ∷ []) (Becomes (codes "override a.b\\\n+= b a |\\\n\\\n-g  b \nF\\\n::==\\\n\\\n;\n%.o: a | b\nifeq (a,b)\n\ta # b\n"))) ∷  -- recipes-1252
    (codes "c&: ; true\n\tsay \"q\"\n\trm -f x\n\ta \\\n\tb\n\tsay \"q\"\noverride := -g \\\n \\\n -g $$ \\\na:b# a \\\\\n", SetRecipe None (codes "c") (ByText (codes "rm -f x")) (codes "b"), Accepted 1 1 (span 21 28 (codes "b") ∷ []) (Becomes (codes "c&: ; true\n\tsay \"q\"\n\tb\n\ta \\\n\tb\n\tsay \"q\"\noverride := -g \\\n \\\n -g $$ \\\na:b# a \\\\\n"))) ∷  -- recipes-1253
    (codes "c: a\n\t\n\tsay \"q\"\n\ta\n", SetRecipe None (codes "c") (ByText (codes "a")) (codes "true"), Accepted 1 1 (span 17 18 (codes "true") ∷ []) (Becomes (codes "c: a\n\t\n\tsay \"q\"\n\ttrue\n"))) ∷  -- recipes-1254
    (codes "c: # c\r\n\t\r\nF= x=1 \\\r\n-g  -g \r\n", RemoveLines (OfRecipe None (codes "c") (ByText [])), Accepted 0 1 (span 8 11 [] ∷ []) (Becomes (codes "c: # c\r\nF= x=1 \\\r\n-g  -g \r\n"))) ∷  -- recipes-1256
    (codes "c: ; true\n\ty\r\n\ta\nx.o c: a\n>>a\nF = \\\\\\\\ -O2#-g\nc c:\n\tt\nexport F\\\n=-O2 x$(aab)\n\tifdef Q\n\ta", RemoveLines (OfRecipe (Some 1) (codes "c") (ByText (codes "a"))), Accepted 0 1 (span 14 17 [] ∷ []) (Becomes (codes "c: ; true\n\ty\r\nx.o c: a\n>>a\nF = \\\\\\\\ -O2#-g\nc c:\n\tt\nexport F\\\n=-O2 x$(aab)\n\tifdef Q\n\ta"))) ∷  -- recipes-1259
    (codes "c: ; true\nifdef A\n\tifdef Q\nc: a | b\n\ta\n\t# n\n\ttrue\nc&: # c\n\ty\r\n\n\ttrue\nd:\n\ttrue\n", SetRecipe (Some 3) (codes "c") (ByText (codes "true")) (codes ">a"), Accepted 1 1 (span 64 68 (codes ">a") ∷ []) (Becomes (codes "c: ; true\nifdef A\n\tifdef Q\nc: a | b\n\ta\n\t# n\n\ttrue\nc&: # c\n\ty\r\n\n\t>a\nd:\n\ttrue\n"))) ∷  -- recipes-1262
    (codes "c: # c\n\tb\n\t\ttrue", RemoveLines (OfRecipe None (codes "c") (ByText (codes "\ttrue"))), Accepted 0 1 (span 10 16 [] ∷ []) (Becomes (codes "c: # c\n\tb\n"))) ∷  -- recipes-1264
    (codes ".RECIPEPREFIX = >\r\n.RECIPEPREFIX = $x\r\nexport F= ${v a #-g\r\nd: a\r\n\ta\\\\\r\nendif\r\nF = |#-g\r\nc: a\r\n\ttrue\r\nifeq (a,b)", AddRecipe None (codes "d") (At 1) (codes "a"), NotMade 1 RecipePrefix) ∷  -- recipes-1269
    (codes "override\\\r\n= b \\\r\n a\\$ |\\\r\n \r\nd: # c\r\n\ta # b\r\nF+= a$\\ \\\n", RemoveLines (OfRecipe None (codes "d") (ByText (codes "a # b"))), Accepted 0 1 (span 38 46 [] ∷ []) (Becomes (codes "override\\\r\n= b \\\r\n a\\$ |\\\r\n \r\nd: # c\r\nF+= a$\\ \\\n"))) ∷  -- recipes-1272
    (codes "a.b\\\n+= b \\\n \\\n a:b a \\ a$\\\nd: ;\n\tb\nc:: # c\n\t\n\ttrue \\\r\n\ttrue\nF!= -O2 \\#\\\n\\\n-O2#-g\nc: a | b\n \nF ::= b \\\n    a ; \\\n    ; \\\r\n a\\\\\n>ifdef Q", AddRecipe (Some 1) (codes "c") (At 0) (codes "true"), NotMade 1 Absent) ∷  -- recipes-1275
    (codes "include:: a | b\r\n>true\r\n>\ttrue\r\n># n\r\nc&: a | b\r\n>t\r\na.b = #", RemoveLines (OfRecipe (Some 0) (codes "include") (ByText (codes "b"))), NotMade 0 Reserved) ∷  -- recipes-1278
    (codes "F := ${c} \\\n    a:b $(a b) \\\n    $(A -g) ;\nc: a | b\n\tsay \"q\"\r", AddRecipe None (codes "c") (At 2) (codes ">a"), NotMade 1 OpenLine) ∷  -- recipes-1284
    (codes "d:\n\tsay \"q\"\n\t\n\trm -rf x\n", RemoveLines (OfRecipe None (codes "d") (ByText (codes "say \"q\""))), Accepted 0 1 (span 3 12 [] ∷ []) (Becomes (codes "d:\n\t\n\trm -rf x\n"))) ∷  -- recipes-1286
    (codes "c: ; true\nifdef A\n\trm -f x\n\ta\nifdef A\nF = -O2# a \\\\\nelse\noverride = | $(A -g)\\\n-g \\\n \\\n ${v a \nendif\nd c: a\n\t>a\n\tsay \"q\"\n\ttrue\n\t\na.b\\\n!= # \\\n d\\\n", RemoveLines (OfRecipe (Some 1) (codes "c") (ByText (codes "rm -f x"))), Accepted 0 1 (span 18 27 [] ∷ []) (Becomes (codes "c: ; true\nifdef A\n\ta\nifdef A\nF = -O2# a \\\\\nelse\noverride = | $(A -g)\\\n-g \\\n \\\n ${v a \nendif\nd c: a\n\t>a\n\tsay \"q\"\n\ttrue\n\t\na.b\\\n!= # \\\n d\\\n"))) ∷  -- recipes-1288
    (codes "%.o&: ; true\r\nendif\r\n \r\n\tsay \"q\"\r\nc:\\\n", SetRecipe None (codes "%.o") (ByText (codes "a")) (codes "a\\"), NotMade 1 (BadArgument field.Line)) ∷  -- recipes-1289
    (codes "c&: a\n\tifdef Q\n\t\n\tt\n\trm -rf x\nc&: ;\n\n\tsay \"q\"\n\ttrue \\\r\n\ttrue\n\ta # b\n", RemoveLines (OfRecipe (Some 1) (codes "c") (ByText [])), Accepted 0 1 (span 15 17 [] ∷ []) (Becomes (codes "c&: a\n\tifdef Q\n\tt\n\trm -rf x\nc&: ;\n\n\tsay \"q\"\n\ttrue \\\r\n\ttrue\n\ta # b\n"))) ∷  -- recipes-1290
    (codes "d: ;\n\t\n\tx \\ y\nc: ;\n\t a\n\ta\n\ta # b\nc: a\n\t>a\n\t\nc: ;\n\t# n\n # n\n\ta\\\n>b\n\ta\n", RemoveLines (OfRecipe (Some 1) (codes "c") (ByText (codes "a"))), Accepted 0 1 (span 23 26 [] ∷ []) (Becomes (codes "d: ;\n\t\n\tx \\ y\nc: ;\n\t a\n\ta # b\nc: a\n\t>a\n\t\nc: ;\n\t# n\n # n\n\ta\\\n>b\n\ta\n"))) ∷  -- recipes-1291
    (codes "F !=a $  \nc&: ; true\n\t a\n\ttrue\n \nc: # c\n\t\\\n\n\t\n\tb\n\ttrue\noverride a.b = #-g\nF +=\\\\\\\\\\\n\ta \n", RemoveLines (OfRecipe None (codes "c") (ByText (codes "ifdef Q"))), NotMade 0 (Ambiguous 2)) ∷  -- recipes-1294
    (codes "X := #\nc: a | b\n\trm -rf x\n\ttrue\nc: ;\n\tb\n", AddRecipe (Some 1) (codes "c") (At 4) (codes "rm -rf x"), NotMade 1 Absent) ∷  -- recipes-1296
    (codes "c: a | b\n\t>a\n\trm -f x\n\tt\nifdef A\nF\\\n::= -g a\\\n#-g\nelse\nX::=  -g ${c} -g# c\nendif", SetRecipe (Some 2) (codes "c") (ByText (codes "\\")) (codes "b"), NotMade 1 (BadArgument field.Old)) ∷  -- recipes-1297
    (codes "c c: a\n# \\\n n\n # n\n\tt\n", SetRecipe (Some 1) (codes "c") (ByText (codes "t")) (codes "t"), Accepted 1 1 (span 20 21 (codes "t") ∷ []) (Becomes (codes "c c: a\n# \\\n n\n # n\n\tt\n"))) ∷  -- recipes-1299
    []

answers_9 : map (λ row. account row.0 row.1) rows_9 ≡ map (λ row. row.2) rows_9
answers_9 = refl
