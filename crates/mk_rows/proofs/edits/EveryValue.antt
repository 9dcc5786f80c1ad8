-- Edits with their answers. Made by `tests/definitions/edit_rows.py tests/cases/edits/every-value.tsv`.
use Rattle.std.proofs.Common.{◌≡◌, refl, ℕ, List, [], ◌∷◌, map}
use Rattle.std.specs.Prelude.{codes}
use Rattle.mk_edit_language.specs.Edits.{Edit}
use Rattle.mk_edit_language.specs.Edits.{Every, ChangeValue}
use Rattle.mk_edit_language.specs.Edits as edits
use Rattle.mk_edit_language.specs.declared.refusal.Refusal.TheVariants.{BadArgument, Reserved, RecipePrefix, NoSuch, Absent, Already, OpenValue}
use Rattle.mk_edit_language.specs.declared.refusal.Field.TheVariants as field
use Rattle.mk_rows.proofs.edits.Outcomes.{account, Account, span, Becomes, Accepted, NotMade}

abbrev rows_1 : List (List ℕ × Edit × Account)
rows_1 =
    (codes "a.b::=b\r\nifdf A\r\nF =\\\r\n-g a:b\r\nendif\r\nd: ; true\r\n\t# n\r\n\ta\r\n\t\ttrue\r\n\r\n", ChangeValue Every (codes "F") (edits.Append (codes "$\\x b")), Accepted 1 1 (span 29 29 (codes " $\\x b") ∷ []) (Becomes (codes "a.b::=b\r\nifdf A\r\nF =\\\r\n-g a:b $\\x b\r\nendif\r\nd: ; true\r\n\t# n\r\n\ta\r\n\t\ttrue\r\n\r\n"))) ∷  -- more-1
    (codes "override define .RECIPEPREFIX\r\nc: a | b\r\n>rm -f x\r\n# \\\r\n n\r\noverride = =\t$(a b) \r\n", ChangeValue Every (codes "F") (edits.Remove (codes "b")), NotMade 0 RecipePrefix) ∷  -- more-10
    (codes "c: a | b\r\n\t# n\n\ta # b\n", ChangeValue Every (codes "F") (edits.Set (codes "b")), NotMade 0 NoSuch) ∷  -- more-16
    (codes "ifdef A\noverride F += -g #-g\nendif\nF ?=\t \nF:= -O2 b  a$  \\\n \\\n \nF=\\\\\n\\\n= \n", ChangeValue Every (codes "F") (edits.Add (codes "-g")), NotMade 3 OpenValue) ∷  -- more-19
    (codes "override ::= \\\r\n \r\nd: ;\r\nifdef A\r\nX !=a\\  -g#-g\r\nendif\r\nifdef A\r\noverride = a b $ \r\nendif\r\n", ChangeValue Every (codes "override") (edits.Remove (codes "$ ")), NotMade 1 (BadArgument field.Word)) ∷  -- more-35
    (codes "F= \\\n    $\\\n  $(a\tb)\ta:b \\\n#-g\n\t\\\nA\\\n?= 2 3 ", ChangeValue Every (codes "F") (edits.Remove (codes "a:b")), Accepted 1 1 (span 20 24 [] ∷ []) (Becomes (codes "F= \\\n    $\\\n  $(a\tb) \\\n#-g\n\t\\\nA\\\n?= 2 3 "))) ∷  -- more-39
    (codes "endef=  \nF\\\n::= a | a:b -g \\\n    ${c} \nX\\\n?=x=1 a\nexport F\\\n= \nd&: a\n># n\n>true\n# n\n>a\\\n>b\n", ChangeValue Every (codes "X") (edits.Remove (codes "a")), Accepted 1 1 (span 47 49 [] ∷ []) (Becomes (codes "endef=  \nF\\\n::= a | a:b -g \\\n    ${c} \nX\\\n?=x=1\nexport F\\\n= \nd&: a\n># n\n>true\n# n\n>a\\\n>b\n"))) ∷  -- more-44
    (codes "F = $(t \\\n -g) -g \\\n    a\\$ \n", ChangeValue Every (codes "F") (edits.Set []), Accepted 1 1 (span 4 28 [] ∷ []) (Becomes (codes "F = \n"))) ∷  -- more-46
    (codes "x.o: ; true\n>>a\n>rm rf x\nifdef A\nX\\\n= a# c\n", ChangeValue Every (codes "X") (edits.Set (codes "$(t -g) x$(a  b)")), Accepted 1 1 (span 38 39 (codes "$(t -g) x$(a  b)") ∷ []) (Becomes (codes "x.o: ; true\n>>a\n>rm rf x\nifdef A\nX\\\n= $(t -g) x$(a  b)# c\n"))) ∷  -- more-48
    (codes "c: # c\nifeq (a,b)\nF?=b\\\n-O2 ; -O2\\\n a\nX = -g\nF\\\n= -g\\\n\t-O2 -g \\\r\n \n", ChangeValue Every (codes "F") (edits.Add (codes "b")), Accepted 1 1 (span 61 61 (codes " b") ∷ []) (Becomes (codes "c: # c\nifeq (a,b)\nF?=b\\\n-O2 ; -O2\\\n a\nX = -g\nF\\\n= -g\\\n\t-O2 -g b \\\r\n \n"))) ∷  -- more-55
    (codes "F+=  ", ChangeValue Every (codes "F") (edits.Append []), NotMade 1 (BadArgument field.Value)) ∷  -- more-59
    (codes "F?= \\\n    $x -g# a \\\\\noverride override ::= $(a b)\\\n Ã© $(s (b) a)  -O2  -g\\\n\t#-g\nX\\\n= a \\ b \\\n    a\ta\noverride= \nF = b a:b# a \\\\\n", ChangeValue Every (codes "X") (edits.Set (codes "|")), Accepted 1 1 (span 87 102 (codes "|") ∷ []) (Becomes (codes "F?= \\\n    $x -g# a \\\\\noverride override ::= $(a b)\\\n Ã© $(s (b) a)  -O2  -g\\\n\t#-g\nX\\\n= |\noverride= \nF = b a:b# a \\\\\n"))) ∷  -- more-65
    (codes ".RECIPEPREFIX = >\r\na.b!= a\r\nd::\r\n\trm -rf x\r\n\ta\r\n\tb\r\nifdef !=  #c \\\r\n d\r\n", ChangeValue Every (codes "a.b") (edits.Remove (codes "a")), Accepted 1 1 (span 25 26 [] ∷ []) (Becomes (codes ".RECIPEPREFIX = >\r\na.b!= \r\nd::\r\n\trm -rf x\r\n\ta\r\n\tb\r\nifdef !=  #c \\\r\n d\r\n"))) ∷  -- more-67
    (codes "F\\\r\n=-O2\r\nX\\\r\n= a\ta$ \r\na.b\\\r\n= -O2 $\\\t;\r\noverride += b -O2 -g#\r\nX = -g a$ \r\n", ChangeValue Every (codes "X") (edits.Add (codes "$(s (b) a)")), Accepted 2 2 (span 21 21 (codes " $(s (b) a)") ∷ span 74 74 (codes " $(s (b) a)") ∷ []) (Becomes (codes "F\\\r\n=-O2\r\nX\\\r\n= a\ta$  $(s (b) a)\r\na.b\\\r\n= -O2 $\\\t;\r\noverride += b -O2 -g#\r\nX = -g a$  $(s (b) a)\r\n"))) ∷  -- more-74
    (codes "F =a\\\\\t-g \\\n    b -O2 |# c\nF = -O2 b b -O2 b\n", ChangeValue Every (codes "F") (edits.Remove (codes "a\\\\")), NotMade 1 (BadArgument field.Word)) ∷  -- more-76
    (codes "F\\\n::= $x \\\\\\\\ $(a\tb) x=1 \n\\\n#\n# \r\nc: # c\n\t\nx.o: ;\n>\ttrue\n>>a\n>say \"q\"", ChangeValue Every (codes "F") (edits.Append []), NotMade 1 (BadArgument field.Value)) ∷  -- more-79
    (codes "d:: ;\n\tsay \"q\"\nA?= \\\n\nF\\\n= \\\n    a -g \nF =  $$\\\n\\\n-g\\\n\t$(u \\\n    -g \nifdef A\nF = b -g\\\n -O2 \\\n    b\nendif\r", ChangeValue Every (codes "F") (edits.Remove (codes "-g")), NotMade 3 OpenValue) ∷  -- more-81
    (codes "d: ; true\n\t\noverride =a  $x\\\n |\nx.o:\n\t\n\ttrue\n\tsay \"q\"\n\ta\\\\\noverride override = ${c}  -g b# \\\n d\nd: ; true\n# \\\n n\n\t>a\n", ChangeValue Every (codes "override") (edits.Add (codes "$(s (b) a)")), Accepted 2 2 (span 31 31 (codes " $(s (b) a)") ∷ span 89 89 (codes " $(s (b) a)") ∷ []) (Becomes (codes "d: ; true\n\t\noverride =a  $x\\\n | $(s (b) a)\nx.o:\n\t\n\ttrue\n\tsay \"q\"\n\ta\\\\\noverride override = ${c}  -g b $(s (b) a)# \\\n d\nd: ; true\n# \\\n n\n\t>a\n"))) ∷  -- more-84
    (codes "override\\\r\n+= -O2 x=1 $\\\r\nF+= \\\r\n \\\r\n $(t \\\r\n -g) \\\r\n \\\r\n -O2\\\r\n\\\r\na \\\r\n -g -g# c\r\nF != a\ta -O2 $ # \\\r\n d\r\n", ChangeValue Every (codes "F") (edits.Append (codes "-g")), Accepted 1 1 (span 98 98 (codes " -g") ∷ []) (Becomes (codes "override\\\r\n+= -O2 x=1 $\\\r\nF+= \\\r\n \\\r\n $(t \\\r\n -g) \\\r\n \\\r\n -O2\\\r\n\\\r\na \\\r\n -g -g# c\r\nF != a\ta -O2 $  -g# \\\r\n d\r\n"))) ∷  -- more-88
    (codes "export a.b= a\\\n -O2#-g\nF?= $##-g\nc:: ; true\n\t\n\ttrue\nX\\\n= # \\\n d\n", ChangeValue Every (codes "a.b") (edits.Append (codes "|")), Accepted 1 1 (span 19 19 (codes " |") ∷ []) (Becomes (codes "export a.b= a\\\n -O2 |#-g\nF?= $##-g\nc:: ; true\n\t\n\ttrue\nX\\\n= # \\\n d\n"))) ∷  -- more-91
    (codes "X ::= $(a b) \\\r\n \\\n a -O2\nX = ${c}  x=1 |\n", ChangeValue Every (codes "X") (edits.Set []), Accepted 2 2 (span 6 25 [] ∷ span 30 41 [] ∷ []) (Becomes (codes "X ::= \nX = \n"))) ∷  -- more-99
    (codes "a.b = a $x\\\n\\\n;\nX\\\n=x=1 -O2 #\n", ChangeValue Every (codes "a.b") (edits.Remove (codes "a")), Accepted 1 1 (span 6 8 [] ∷ []) (Becomes (codes "a.b = $x\\\n\\\n;\nX\\\n=x=1 -O2 #\n"))) ∷  -- more-104
    (codes ".RECIPEPREFIX = >\r\nc: ;\r\nX = -g -O2 $$\r\n\ta\r\nF =\\\r\n\\\r\na a:b -O2 -O2 # c\r\nF\\\r\n= Ã© $  \\\r\n#-g\r\nc:: a\r\n\r\n\t>a\r\n\tsay \"q\"\r\n\ttrue\r\ninclude: ;\r\n\ta \\\r\n\tb\r\n\ttrue\r\n\ty", ChangeValue Every (codes "F") (edits.Remove (codes "$ ")), NotMade 1 (BadArgument field.Word)) ∷  -- more-121
    (codes "F ?= a | #\nifdef A\na.b\\\n+= b\\\n|\nelse\noverride F = \\# -g a:b \nendif\n", ChangeValue Every (codes "F") (edits.Remove (codes "a:b")), Accepted 1 1 (span 55 59 [] ∷ []) (Becomes (codes "F ?= a | #\nifdef A\na.b\\\n+= b\\\n|\nelse\noverride F = \\# -g \nendif\n"))) ∷  -- more-122
    (codes "F = $\\\n#-g\nF = b -g#\n", ChangeValue Every (codes "F") (edits.Add (codes "x=1")), NotMade 2 OpenValue) ∷  -- more-123
    (codes ".PHONY $x \t: A != \\\n\noverride= -g a $(s (b) a) \\ b $(t \\\n -g) \n", ChangeValue Every (codes "override") (edits.Append (codes "b")), Accepted 1 1 (span 61 61 (codes " b") ∷ []) (Becomes (codes ".PHONY $x \t: A != \\\n\noverride= -g a $(s (b) a) \\ b $(t \\\n -g) b \n"))) ∷  -- more-130
    (codes "define\\\r\n!= ", ChangeValue Every (codes "define") (edits.Remove (codes "=")), NotMade 0 Absent) ∷  -- more-135
    (codes "Y+= \nifdef A\nF != -g\t\nelse\nF\\\n=-g -O2\nendif\n", ChangeValue Every (codes "F") (edits.Append (codes "-g")), Accepted 2 2 (span 20 20 (codes " -g") ∷ span 37 37 (codes " -g") ∷ []) (Becomes (codes "Y+= \nifdef A\nF != -g -g\t\nelse\nF\\\n=-g -O2 -g\nendif\n"))) ∷  -- more-139
    (codes "endef # c\nifdef A\na.b\\\n::= a \\\n \\\n b \\\n \\\n -g\nendif\n", ChangeValue Every (codes "a.b") (edits.Set (codes "a\0")), NotMade 1 (BadArgument field.Value)) ∷  -- more-168
    (codes "d: # c\n\tb\nifeq (a,b)\n\ty\r\nexport F\\\n!=b ;\\\n $(t \\\n -g)\ta -g#-g\nF = a:b\nc: a\n\t\n\trm -f x\nelse\n", ChangeValue Every (codes "F") (edits.Add (codes "a:b")), Accepted 1 1 (span 58 58 (codes " a:b") ∷ []) (Becomes (codes "d: # c\n\tb\nifeq (a,b)\n\ty\r\nexport F\\\n!=b ;\\\n $(t \\\n -g)\ta -g a:b#-g\nF = a:b\nc: a\n\t\n\trm -f x\nelse\n"))) ∷  -- more-170
    (codes "override\\\n= a  -g\nifdef A\nX =-O2 ; $(a b)\nendif\n", ChangeValue Every (codes "X") (edits.Add (codes "x=1")), Accepted 1 1 (span 41 41 (codes " x=1") ∷ []) (Becomes (codes "override\\\n= a  -g\nifdef A\nX =-O2 ; $(a b) x=1\nendif\n"))) ∷  -- more-171
    (codes "a.b = a | a:b \\\n    a #-g\nF\\\n=b \\\n \\\n -g\\\n\ta\\  -O2# \\\n d\nX ::= -g a\n", ChangeValue Every (codes "+") (edits.Remove (codes "-O2")), NotMade 0 (BadArgument field.Name)) ∷  -- more-173
    (codes "c: ;\n\t a\n\t\nc&: # c\nF= \\ -g a\n\ta\\\\\n\t\\\n\n# \\\n n\nc: ; true\n# n\n", ChangeValue Every (codes "F") (edits.Append (codes "\\\\a")), Accepted 1 1 (span 28 28 (codes " \\\\a") ∷ []) (Becomes (codes "c: ;\n\t a\n\t\nc&: # c\nF= \\ -g a \\\\a\n\ta\\\\\n\t\\\n\n# \\\n n\nc: ; true\n# n\n"))) ∷  -- more-175
    (codes "ifdef A\r\nF= | \\\n \\\n -O2\t\\ b\\\n\t${c}\nelse\nF!= -g \\\r\n a\\\n\ta\\\n -g\t-g\t#-g\nendif", ChangeValue Every (codes "F") (edits.Append (codes "x=1")), Accepted 2 2 (span 34 34 (codes " x=1") ∷ span 64 64 (codes " x=1") ∷ []) (Becomes (codes "ifdef A\r\nF= | \\\n \\\n -O2\t\\ b\\\n\t${c} x=1\nelse\nF!= -g \\\r\n a\\\n\ta\\\n -g\t-g x=1\t#-g\nendif"))) ∷  -- more-182
    (codes "ifdef A\r\nF +=-g -g #\nelse\nF = -g \nendif\nifdef A\nF = \nelse\nX ?= -O2#\nendif\nF = $(w \\\n a)\\\na:b# a \\\\\n", ChangeValue Every (codes "F") (edits.Add (codes "-g")), Accepted 2 2 (span 52 52 (codes "-g") ∷ span 92 92 (codes " -g") ∷ []) (Becomes (codes "ifdef A\r\nF +=-g -g #\nelse\nF = -g \nendif\nifdef A\nF = -g\nelse\nX ?= -O2#\nendif\nF = $(w \\\n a)\\\na:b -g# a \\\\\n"))) ∷  -- more-187
    (codes "F\\\r\n!= a\\\r\n b -O2 -O2# \\\r\n d\r\noverride ::= $# \\\r\n b\r\nF\\\r\n= a \\\r\n \\\r\n \r\n", ChangeValue Every (codes "F") (edits.Set (codes "a:b")), Accepted 2 2 (span 7 21 (codes "a:b") ∷ span 59 60 (codes "a:b") ∷ []) (Becomes (codes "F\\\r\n!= a:b# \\\r\n d\r\noverride ::= $# \\\r\n b\r\nF\\\r\n= a:b \\\r\n \\\r\n \r\n"))) ∷  -- more-189
    (codes "a.b = -g#\n \nd&: ;\n\t\n\tx \\ y", ChangeValue Every (codes "a.b") (edits.Remove (codes "-g")), Accepted 1 1 (span 6 8 [] ∷ []) (Becomes (codes "a.b = #\n \nd&: ;\n\t\n\tx \\ y"))) ∷  -- more-192
    (codes ".RECIPEPREFIX = >\r\nF\\\r\n:=-O2 \\\r\n $\\ \\\r\nb\r\nc:\r\n\ta\r\n\trm -rf x\r\nF ::=\\\r\n\\\r\n-g ;\ta # c", ChangeValue Every (codes "F") (edits.Add (codes ";")), NotMade 0 Already) ∷  -- more-193
    (codes "c: a\r\n\tt\r\n\t>a\r\n# n\r\n# \\\r\n n\r\n.RECIPEPREFIX = >\r\nifdef A\r\nF != a$ \r\nelse\nF = ${c} a $(a\tb) a#\r\nendif\r\n", ChangeValue Every (codes "F") (edits.Set []), Accepted 2 2 (span 62 65 [] ∷ span 76 91 [] ∷ []) (Becomes (codes "c: a\r\n\tt\r\n\t>a\r\n# n\r\n# \\\r\n n\r\n.RECIPEPREFIX = >\r\nifdef A\r\nF != \r\nelse\nF = #\r\nendif\r\n"))) ∷  -- more-206
    (codes "c&: a | b\n # n\n> a\n>t\nF ?=a \\\nb \\\n    -g \nc: a\n\tsay \"q\"\n\tx \\ y\n\trm -rf x\n\tx \\ y\n", ChangeValue Every (codes "F") (edits.Set []), Accepted 1 1 (span 26 41 [] ∷ []) (Becomes (codes "c&: a | b\n # n\n> a\n>t\nF ?=\nc: a\n\tsay \"q\"\n\tx \\ y\n\trm -rf x\n\tx \\ y\n"))) ∷  -- more-208
    (codes "F= -g b -O2 \n", ChangeValue Every (codes "F") (edits.Set (codes "x$(a  b)")), Accepted 1 1 (span 3 11 (codes "x$(a  b)") ∷ []) (Becomes (codes "F= x$(a  b) \n"))) ∷  -- more-212
    (codes ".RECIPEPREFIX = >\nd: ; true\n \n\trm -rf x\n\tx \\ y\nF!= $(a b) \\\r\n a \n \n", ChangeValue Every (codes "F") (edits.Set (codes "$\\x")), Accepted 1 1 (span 51 63 (codes "$\\x") ∷ []) (Becomes (codes ".RECIPEPREFIX = >\nd: ; true\n \n\trm -rf x\n\tx \\ y\nF!= $\\x \n \n"))) ∷  -- more-213
    (codes "ifdef A\na.b\\\n:=a \\\n    $(u |#\nendif\nc:\n# n\nendif\nd: a\n>\n>rm -f x\n\na.b !=b\ta:b\n", ChangeValue Every (codes "a.b") (edits.Remove (codes "b")), Accepted 1 1 (span 72 74 [] ∷ []) (Becomes (codes "ifdef A\na.b\\\n:=a \\\n    $(u |#\nendif\nc:\n# n\nendif\nd: a\n>\n>rm -f x\n\na.b !=a:b\n"))) ∷  -- more-215
    (codes "F::= | ;\\\n-g a# c\n%.o: a\nifeq (a,b)\n\t>a\n\tx \\ y\nifdef A\nX ::= $(a\tb)\t-g a:b \nelse\nF=a\\\n\ta \\\n    b \\# a \\\\\nendif\n", ChangeValue Every (codes "X") (edits.Append []), NotMade 1 (BadArgument field.Value)) ∷  -- more-225
    (codes "t1 :=a\\ \\\n\\\n\nd: ;\nF =\\\na -g \\\n-g\n\trm -f x\n\ttrue \\\r\n\ttrue\n\tt\nX\\\n+=\\\nb", ChangeValue Every (codes "F") (edits.Append []), NotMade 1 (BadArgument field.Value)) ∷  -- more-226
    (codes "F += a a\\\\ =# c\nF =a\n", ChangeValue Every (codes "F") (edits.Add (codes "a\\\\")), NotMade 1 (BadArgument field.Word)) ∷  -- more-233
    (codes "# c\nF\\\n:= \\\\ -O2 $(w \\\n a)\\\n -g \\\na\nifdef A\na.b::=a\nelse\nX := \\\n \\\n ;#-g\nendif\n", ChangeValue Every (codes "a.b") (edits.Add (codes "a")), NotMade 0 Already) ∷  -- more-242
    (codes "F =|\\\n\t-g\nifdef A\noverride\\\n=  \\\n    \nelse\noverride =a\\$ a:b # c\nendif\noverride = a \\\n \\\n -g  -g a:b $(w \\\n a)#-g\n\\a)}=+X\r\n(\nifdef A\nF :=; b\t-O2\\\n -g \\\\\nendif\n", ChangeValue Every (codes "override") (edits.Remove (codes "a:b")), Accepted 1 1 (span 96 100 [] ∷ []) (Becomes (codes "F =|\\\n\t-g\nifdef A\noverride\\\n=  \\\n    \nelse\noverride =a\\$ a:b # c\nendif\noverride = a \\\n \\\n -g  -g $(w \\\n a)#-g\n\\a)}=+X\r\n(\nifdef A\nF :=; b\t-O2\\\n -g \\\\\nendif\n"))) ∷  -- more-245
    (codes "ifdef A\r\noverride += a#-g\r\nelse\r\nF == $(s (b) a) -O2  a\\\r\na:b\r\nendif\r\nexport X = \\\r\n-g \\\r\n    \\\\\r\n\\ b = a# a \\\\\r\nF\\\r\n= -O2\\\r\n\t$(A -g) a:b#\r\n", ChangeValue Every (codes "X$:") (edits.Remove (codes "a\\ b")), NotMade 0 (BadArgument field.Name)) ∷  -- more-247
    (codes "F += b\\\nb \nF != -g \\\\ b a\\\n$x# c\n", ChangeValue Every (codes "F") (edits.Add (codes "x$(a  b)")), Accepted 2 2 (span 9 9 (codes " x$(a  b)") ∷ span 29 29 (codes " x$(a  b)") ∷ []) (Becomes (codes "F += b\\\nb x$(a  b) \nF != -g \\\\ b a\\\n$x x$(a  b)# c\n"))) ∷  -- more-253
    []

answers_1 : map (λ row. account row.0 row.1) rows_1 ≡ map (λ row. row.2) rows_1
answers_1 = refl

abbrev rows_2 : List (List ℕ × Edit × Account)
rows_2 =
    (codes "X = b# c\n\\\n#c \\\n d\nc: a | b\n\t# n\n\ttrue \\\r\n\ttrue\nifdef A\nelse\na.b = a\\\\# a \\\\\n", ChangeValue Every (codes "a.b") (edits.Set []), Accepted 1 1 (span 67 70 [] ∷ []) (Becomes (codes "X = b# c\n\\\n#c \\\n d\nc: a | b\n\t# n\n\ttrue \\\r\n\ttrue\nifdef A\nelse\na.b = # a \\\\\n"))) ∷  -- more-255
    (codes "d:: a | b\n\tx \\ y\nF\\\n= x=1\nF= $x -g -O2#-g\n", ChangeValue Every (codes "F") (edits.Set []), Accepted 2 2 (span 22 25 [] ∷ span 29 38 [] ∷ []) (Becomes (codes "d:: a | b\n\tx \\ y\nF\\\n= \nF= #-g\n"))) ∷  -- more-257
    (codes "X\\\r\n:= x=1 \\\r\n    a$\\ \\\r\n    x=1 a\r\nX := \\\\ -g\r\n", ChangeValue Every (codes "X") (edits.Append []), NotMade 1 (BadArgument field.Value)) ∷  -- more-260
    (codes "a.b = -g\nexport X!=$(a\tb) b -g# c\n", ChangeValue Every (codes "X") (edits.Append []), NotMade 1 (BadArgument field.Value)) ∷  -- more-264
    (codes "c:: # c\nendif\n\ttrue\n\ttrue\n\\\n\t\nF\\\n::=a:b\\\na\\\n\\\nb \\\n    -g#-g\nd:: ; true\n\t\n\tifdef Q\n", ChangeValue Every (codes "F") (edits.Append (codes "-O2 x$(a  b)")), Accepted 1 1 (span 56 56 (codes " -O2 x$(a  b)") ∷ []) (Becomes (codes "c:: # c\nendif\n\ttrue\n\ttrue\n\\\n\t\nF\\\n::=a:b\\\na\\\n\\\nb \\\n    -g -O2 x$(a  b)#-g\nd:: ; true\n\t\n\tifdef Q\n"))) ∷  -- more-270
    (codes "include: ;\r\n\tsay \"q\"\r\n\trm -f x\r\n\t\r\nd: ;\r\n\ttrue\r\n\ta \\\r\n\tb\r\n\trm -rf x\r\n", ChangeValue Every (codes "X$:") (edits.Remove (codes "a\\ b")), NotMade 0 (BadArgument field.Name)) ∷  -- more-276
    (codes ".RECIPEPREFIX =a >\r\nc:\r\n\tsay \"q\"\r\nifeq (a,b)\r\n\ta # b\r\ninclude: # c{\n\ta\r\n\tsay \"q\"\r\n\ttrue\r\n", ChangeValue Every (codes "a.b") (edits.Remove (codes "\\\\a")), NotMade 0 NoSuch) ∷  -- more-285
    (codes "ifdef A\r\nF::=\\\r\n = |\\\r\n -g\r\nendif\r\n", ChangeValue Every (codes "F") (edits.Remove (codes "-g")), Accepted 1 1 (span 20 26 [] ∷ []) (Becomes (codes "ifdef A\r\nF::=\\\r\n = |\r\nendif\r\n"))) ∷  -- more-296
    (codes "c:\n>rm -f x\n>a\nF=\\\n\n.RECIPEPREFIX = >\nF !==\\\n $(w \\\n a)#-g\n", ChangeValue Every (codes "F") (edits.Remove (codes "$(w a)")), Accepted 1 1 (span 43 55 [] ∷ []) (Becomes (codes "c:\n>rm -f x\n>a\nF=\\\n\n.RECIPEPREFIX = >\nF !==#-g\n"))) ∷  -- more-302
    (codes "override\\\n::= \\\n    $\\ | =\\\n$(a b)\\\n-g# a \\\\\n", ChangeValue Every (codes "override") (edits.Remove (codes "$\\")), NotMade 1 (BadArgument field.Word)) ∷  -- more-303
    (codes "ifdef A\nF::=b x$(a  b) -O2  #-g\nelse\nF\\\n= x=1 -g a# c\nendif\nF := #\nc: ;\n", ChangeValue Every (codes "F") (edits.Append (codes "|")), Accepted 3 3 (span 26 26 (codes " |") ∷ span 50 50 (codes " |") ∷ span 65 65 (codes "|") ∷ []) (Becomes (codes "ifdef A\nF::=b x$(a  b) -O2 |  #-g\nelse\nF\\\n= x=1 -g a |# c\nendif\nF := |#\nc: ;\n"))) ∷  -- more-305
    (codes ".RECIPEPREFIX = >\nifdef A\nX\\\n::= -O2\\\n -g\t${c} $(a\tb)\\\n a# \\\n d\nendif\nifdef A\nF ::= \\\na\\$\nendif\n$(p #): %.o \n", ChangeValue Every (codes "X") (edits.Append (codes "|")), Accepted 1 1 (span 57 57 (codes " |") ∷ []) (Becomes (codes ".RECIPEPREFIX = >\nifdef A\nX\\\n::= -O2\\\n -g\t${c} $(a\tb)\\\n a |# \\\n d\nendif\nifdef A\nF ::= \\\na\\$\nendif\n$(p #): %.o \n"))) ∷  -- more-314
    (codes "ifdef A\na.b =x=1\\\n\\\n\\#\\\n\\\na:b# \\\n d\nendif\nexport F= a \\\n    $(a\tb) # a \\\\", ChangeValue Every (codes "F") (edits.Append (codes "-g $(a b)")), Accepted 1 1 (span 66 66 (codes " -g $(a b)") ∷ []) (Becomes (codes "ifdef A\na.b =x=1\\\n\\\n\\#\\\n\\\na:b# \\\n d\nendif\nexport F= a \\\n    $(a\tb) -g $(a b) # a \\\\"))) ∷  -- more-318
    (codes "c&: a | b\r\n\t\r\0", ChangeValue Every (codes "X") (edits.Set []), NotMade 0 NoSuch) ∷  -- more-321
    (codes "X +=\r\noverride+=\\\r\n\t\\\r\n$(f {) \t\r\noverride\\\r\n=-g \\\r\n \\\r\n #-g", ChangeValue Every (codes "override") (edits.Set []), Accepted 2 2 (span 23 31 [] ∷ span 45 56 [] ∷ []) (Becomes (codes "X +=\r\noverride+=\\\r\n\t\\\r\n\r\noverride\\\r\n=#-g"))) ∷  -- more-322
    (codes "override X = = a -O2\nc: # c\n>rm -f x\n>>a\nc: # c\n\t a\n\ta # b\nd&: # c", ChangeValue Every (codes "X") (edits.Add (codes "a")), NotMade 0 Already) ∷  -- more-324
    (codes "F+=\\\n\\\n-O2 \\\n \\\n a#-g\n", ChangeValue Every (codes "F") (edits.Add (codes "$(s (b) a)")), Accepted 1 1 (span 18 18 (codes " $(s (b) a)") ∷ []) (Becomes (codes "F+=\\\n\\\n-O2 \\\n \\\n a $(s (b) a)#-g\n"))) ∷  -- more-326
    (codes "X\\\n=-O2\\\n\nifdef A\nexport X+=$x -g\\\n =  $(A -g)\nelse\nF= a:b\\\n\t\nendif\nx.o:\n\ttrue \\\r\n\ttrue\nF =\\\\\\\\# c\nifdef A\nexport F ?= \\\n\t\nF = \\ b \\\n \\\n \n", ChangeValue Every (codes "F") (edits.Remove (codes "\\ b")), Accepted 1 1 (span 127 137 [] ∷ []) (Becomes (codes "X\\\n=-O2\\\n\nifdef A\nexport X+=$x -g\\\n =  $(A -g)\nelse\nF= a:b\\\n\t\nendif\nx.o:\n\ttrue \\\r\n\ttrue\nF =\\\\\\\\# c\nifdef A\nexport F ?= \\\n\t\nF = \n"))) ∷  -- more-332
    (codes "F = $ -O2\n", ChangeValue Every (codes "F") (edits.Remove (codes "$ -O2")), Accepted 1 1 (span 4 9 [] ∷ []) (Becomes (codes "F = \n"))) ∷  -- more-333
    (codes "c d: ; true\n\ttrue\noverride?= x=1\\\n\\\nx=1\n", ChangeValue Every (codes "override") (edits.Remove (codes "|")), NotMade 0 Absent) ∷  -- more-334
    (codes "F = | \\\n    $\\ -g\noverride F!= a$\\\nc c:\nifdef A\nexport a.b\\\n::= a $(t \\\n -g) -O2 b\nelse\nF = \\\\\\\\ $$ -g \nendif\nF=; $x \\\n    a ;\\\n\\\na #-g\n", ChangeValue Every (codes "F") (edits.Remove (codes "|")), Accepted 1 1 (span 4 12 [] ∷ []) (Becomes (codes "F = $\\ -g\noverride F!= a$\\\nc c:\nifdef A\nexport a.b\\\n::= a $(t \\\n -g) -O2 b\nelse\nF = \\\\\\\\ $$ -g \nendif\nF=; $x \\\n    a ;\\\n\\\na #-g\n"))) ∷  -- more-343
    (codes "ifdef A\nF+= ${c} a\\\\ x=1 ${c} a\\\\\nelse\na.b+= b \\\n; a a:b  -g#\nendif\nF =a", ChangeValue Every (codes "F") (edits.Add (codes "a\\\\")), NotMade 1 (BadArgument field.Word)) ∷  -- more-359
    (codes ".RECIPEPREFIX = >\nF=  \n", ChangeValue Every (codes "F") (edits.Set (codes "$(a b)")), Accepted 1 1 (span 22 22 (codes "$(a b)") ∷ []) (Becomes (codes ".RECIPEPREFIX = >\nF=  $(a b)\n"))) ∷  -- more-361
    (codes "override\\\r\n= a\\\r\n\ta\\\r\n\t-g \\\\\r\n-x_9?= %.o |$(m \\\r\n n)\r\n", ChangeValue Every (codes "override") (edits.Set (codes "\\#")), Accepted 1 1 (span 13 28 (codes "\\#") ∷ []) (Becomes (codes "override\\\r\n= \\#\r\n-x_9?= %.o |$(m \\\r\n n)\r\n"))) ∷  -- more-367
    (codes "F= $(a b)\\\n\tb -g  -g # c\\", ChangeValue Every (codes "X$ ") (edits.Remove (codes "\\\\a")), NotMade 0 (BadArgument field.Name)) ∷  -- more-370
    (codes "override\\\n=\nc:: a | b\n\t#\\\\\n\t\nd: # c\n>ifdef Q\n>true\n>true\n", ChangeValue Every (codes "override") (edits.Remove (codes "$(w a)")), NotMade 0 Absent) ∷  -- more-374
    (codes "ifdef A\r\nF?==# c\r\nelse\r\noverride= a \\\r\n    $x -O2 \\\r\n| \\\r\n|# \\\r\n d\r\nendif\r\n#\\\\\\\r\n\r\n", ChangeValue Every (codes "F") (edits.Remove (codes "=")), Accepted 1 1 (span 12 13 [] ∷ []) (Becomes (codes "ifdef A\r\nF?=# c\r\nelse\r\noverride= a \\\r\n    $x -O2 \\\r\n| \\\r\n|# \\\r\n d\r\nendif\r\n#\\\\\\\r\n\r\n"))) ∷  -- more-392
    (codes ".RECIPEPREFIX = $x\nF := a \\\n-g \\\r\n =# \\\n d\nc: ;\n\trm -f x\n\ta\ndefine D", ChangeValue Every (codes "F") (edits.Append (codes "b")), NotMade 1 RecipePrefix) ∷  -- more-395
    (codes "%.o: a\n\tt\noverride := $(w \\\n a)\n\tb\n\tx \\ y\nF\\\n=\\\n\t-g ", ChangeValue Every (codes "F") (edits.Append []), NotMade 1 (BadArgument field.Value)) ∷  -- more-419
    (codes "ifdef A\nF :=a ; \\\n \\\n b\nelse\nexport override= $$ a\nendif\nc: ; true\n\t# n\n\t\ttrue\nc: a | b\n# \\\n n\n\tb\nc: ;\nifdef A\na.b =a:b\\\nx=1 $\\ =\n ", ChangeValue Every (codes "F") (edits.Append (codes "a\\ b \\#")), Accepted 1 1 (span 23 23 (codes " a\\ b \\#") ∷ []) (Becomes (codes "ifdef A\nF :=a ; \\\n \\\n b a\\ b \\#\nelse\nexport override= $$ a\nendif\nc: ; true\n\t# n\n\t\ttrue\nc: a | b\n# \\\n n\n\tb\nc: ;\nifdef A\na.b =a:b\\\nx=1 $\\ =\n "))) ∷  -- more-422
    (codes "X\\\n::= $(a b)\\\na b\n", ChangeValue Every (codes "X") (edits.Remove (codes "b")), Accepted 1 1 (span 16 18 [] ∷ []) (Becomes (codes "X\\\n::= $(a b)\\\na\n"))) ∷  -- more-424
    (codes "X?= a\\\\ -g \nc: ;\n# \\\n n\n>say \"q\"\n", ChangeValue Every (codes "X") (edits.Set (codes "a")), Accepted 1 1 (span 4 10 (codes "a") ∷ []) (Becomes (codes "X?= a \nc: ;\n# \\\n n\n>say \"q\"\n"))) ∷  -- more-427
    (codes "ifdef A\r\na.b =\r\nelse\r\nX?= -O2 a$  a$\\ b\\\r\n\t$$ #\r\nendif\r\nX\\\r\n:= $(a b) =\r\nifdef A\r\nF+=$#\t${v a \\\r\nb # c\r\nendif\r\n", ChangeValue Every (codes "a.b") (edits.Set (codes "a$ b $ b")), Accepted 1 1 (span 14 14 (codes "a$ b $ b") ∷ []) (Becomes (codes "ifdef A\r\na.b =a$ b $ b\r\nelse\r\nX?= -O2 a$  a$\\ b\\\r\n\t$$ #\r\nendif\r\nX\\\r\n:= $(a b) =\r\nifdef A\r\nF+=$#\t${v a \\\r\nb # c\r\nendif\r\n"))) ∷  -- more-428
    (codes "F =-g b -g $(u \\\r\n a\r\nF\\\r\n= -g b \\", ChangeValue Every (codes "F") (edits.Append (codes "$(w a)")), NotMade 2 OpenValue) ∷  -- more-432
    (codes "F = a # \\\r\n d\r\nX= $# ${c} ;\r\noverride X =x=1 $(t \\\r\n -g) a \\\r\n    b \\\r\n $(a b)# c\r\nc: # c\r\nelse\r\n\trm -rf x\r\nF:= b \\\r\n \\\r\n -O2 \\\r\n    \r\n", ChangeValue Every (codes "X") (edits.Append (codes "a&b")), Accepted 2 2 (span 27 27 (codes " a&b") ∷ span 78 78 (codes " a&b") ∷ []) (Becomes (codes "F = a # \\\r\n d\r\nX= $# ${c} ; a&b\r\noverride X =x=1 $(t \\\r\n -g) a \\\r\n    b \\\r\n $(a b) a&b# c\r\nc: # c\r\nelse\r\n\trm -rf x\r\nF:= b \\\r\n \\\r\n -O2 \\\r\n    \r\n"))) ∷  -- more-436
    (codes "F := -g \\\r\n a\n$(X):= .PHONY $(w \\\n \\\n# c\n", ChangeValue Every (codes "F") (edits.Remove (codes "-g")), Accepted 1 1 (span 5 12 [] ∷ []) (Becomes (codes "F := a\n$(X):= .PHONY $(w \\\n \\\n# c\n"))) ∷  -- more-437
    (codes "F\\\n::= x=1 -g x=1# c\nc: ; true\n>rm -f x\nF\\\n!=b -g  \\ b b", ChangeValue Every (codes "F") (edits.Remove (codes "-g")), Accepted 2 2 (span 10 13 [] ∷ span 46 49 [] ∷ []) (Becomes (codes "F\\\n::= x=1 x=1# c\nc: ; true\n>rm -f x\nF\\\n!=b  \\ b b"))) ∷  -- more-438
    (codes "c: ;\n\ta\n\ta # b\nc: ; true\n\trm -rf x\na.b::= = -g# \\\n d", ChangeValue Every (codes "a.b") (edits.Add (codes "-g")), NotMade 0 Already) ∷  -- more-448
    (codes "export X\\\n?= -g\nifdef A\nF\\\n= \\# \\\n \\\n \nelse\nexport F:=| -O2\\\n\\\n-g \\\n    \nendif\nifdef A\nX := x=1 -O2 \\\n    a\nendif\n", ChangeValue Every (codes "X") (edits.Add (codes "\\#")), Accepted 2 2 (span 15 15 (codes " \\#") ∷ span 107 107 (codes " \\#") ∷ []) (Becomes (codes "export X\\\n?= -g \\#\nifdef A\nF\\\n= \\# \\\n \\\n \nelse\nexport F:=| -O2\\\n\\\n-g \\\n    \nendif\nifdef A\nX := x=1 -O2 \\\n    a \\#\nendif\n"))) ∷  -- more-451
    (codes "d:\n>\ttrue\n>b\n>a\n>>a\nd&:\n># n\n>\n>a # b\noverride X= a \\\n    b -O2 -g  \nF\\\n::= -g#\nd: a | b\n\ttrue \\\r\n\ttrue\n\t\n\trm -rf x", ChangeValue Every (codes "a\\=") (edits.Add (codes "x$(a  b)")), NotMade 0 (BadArgument field.Name)) ∷  -- more-455
    (codes "X = a # c\noverride= ;\n", ChangeValue Every (codes "override") (edits.Remove (codes ";")), Accepted 1 1 (span 20 21 [] ∷ []) (Becomes (codes "X = a # c\noverride= \n"))) ∷  -- more-459
    (codes "d: # c\r\nF\\\n!= \\\n \n>true\n>a\nF = $\\\n ;\tb\n", ChangeValue Every (codes "\\#x") (edits.Append (codes "$(s (b) a)")), NotMade 0 (BadArgument field.Name)) ∷  -- more-471
    (codes "X\\\n= = \\\n    a$ \\\n\\\n-g\\\n\t-O2 \n", ChangeValue Every (codes "X") (edits.Append (codes "\\\\a \\#")), Accepted 1 1 (span 28 28 (codes " \\\\a \\#") ∷ []) (Becomes (codes "X\\\n= = \\\n    a$ \\\n\\\n-g\\\n\t-O2 \\\\a \\# \n"))) ∷  -- more-476
    (codes "F != \\\\ b \\\r\n    $(w \\\r\n a)\\\r\n\t$x |\r\n ::private X:= \\# \r\nc::\r\n\t a\r\n\tx \\ y\r\n\ta \\\r\n\tb\r\n\ta\\\r\n>b\r\n", ChangeValue Every (codes "F") (edits.Remove (codes "\\\\")), NotMade 1 (BadArgument field.Word)) ∷  -- more-487
    (codes "F\\\n= x=1\\\n\t-g b $\\\n \n", ChangeValue Every (codes "F") (edits.Add (codes "x=1")), NotMade 0 Already) ∷  -- more-490
    (codes "include: # c\r\n>t\r\n>a\\\r\n+b\r\n>rm -f x", ChangeValue Every (codes "a.b") (edits.Add (codes "b")), NotMade 0 NoSuch) ∷  -- more-501
    (codes "F\\\n:=a\\\n\\\n-g\ta \\\n$ b # a \\\\\noverride != b # c\n", ChangeValue Every (codes "override") (edits.Remove (codes "b")), Accepted 1 1 (span 40 42 [] ∷ []) (Becomes (codes "F\\\n:=a\\\n\\\n-g\ta \\\n$ b # a \\\\\noverride != # c\n"))) ∷  -- more-502
    (codes "export F?=\t; \\\n \\\n a:b\\\n\\\n;\\\n\t=\nX =b -O2\\\n\t-O2 \noverride ?=a \\\n|\\\n x$(a  b)#-g\n", ChangeValue Every (codes "F") (edits.Remove (codes "\\\\a")), NotMade 0 Absent) ∷  -- more-503
    (codes "X != #c \\\n d\nF\\\n!= -g -O2 #-g", ChangeValue Every (codes "X") (edits.Add (codes "-g")), Accepted 1 1 (span 5 5 (codes "-g") ∷ []) (Becomes (codes "X != -g#c \\\n d\nF\\\n!= -g -O2 #-g"))) ∷  -- more-512
    (codes "ifdef A\nF\\\n= b\nendif\nF =  ", ChangeValue Every (codes "F") (edits.Add (codes "${c}")), Accepted 2 2 (span 14 14 (codes " ${c}") ∷ span 26 26 (codes "${c}") ∷ []) (Becomes (codes "ifdef A\nF\\\n= b ${c}\nendif\nF =  ${c}"))) ∷  -- more-514
    []

answers_2 : map (λ row. account row.0 row.1) rows_2 ≡ map (λ row. row.2) rows_2
answers_2 = refl

abbrev rows_3 : List (List ℕ × Edit × Account)
rows_3 =
    (codes "c: # c\n\trm -rf x\noverride X = -g\nd c&: a\n\trm -f x\nF\\\n= \\\n \\\n b#-g\n", ChangeValue Every (codes "X") (edits.Set (codes "x=1")), Accepted 1 1 (span 30 32 (codes "x=1") ∷ []) (Becomes (codes "c: # c\n\trm -rf x\noverride X = x=1\nd c&: a\n\trm -f x\nF\\\n= \\\n \\\n b#-g\n"))) ∷  -- more-526
    (codes "d: a\r\n\ta\r\n\ta # b\r\n\t# n\r\nF = b\r\nd:\r\n\ttrue\r\n\trm -rf x\r\n\ta\r\noverride F\\\r\n= \r\n", ChangeValue Every (codes "F") (edits.Remove (codes "b")), Accepted 1 1 (span 28 29 [] ∷ []) (Becomes (codes "d: a\r\n\ta\r\n\ta # b\r\n\t# n\r\nF = \r\nd:\r\n\ttrue\r\n\trm -rf x\r\n\ta\r\noverride F\\\r\n= \r\n"))) ∷  -- more-527
    (codes "F= -O2  a $(a b) $(a\tb)#-g\nX\\\n?=| \\\n \\\n #\n$(p #) \tt: export\toverride:=$# \nF\\\n::= \\\n    x=1\\\n\\\n$(w \\\n a)\nifdef \\\r\n ::=\\\r\n$(f {)-include2\t${u\\\r\n# \\", ChangeValue Every (codes "ifdef") (edits.Append (codes "$(A -g)")), NotMade 1 OpenValue) ∷  -- more-530
    (codes "export a.b = -O2 -O2# c\r\na.b ::=b ; -g a# a \\\\\r\nF =Ã©\\\r\n\ta $(w \\\r\n a) \\\r\n    # \\\r\n d\r\noverride override != \\\r\n-g -O2#-g\r\n", ChangeValue Every (codes "F") (edits.Set []), Accepted 1 1 (span 51 77 [] ∷ []) (Becomes (codes "export a.b = -O2 -O2# c\r\na.b ::=b ; -g a# a \\\\\r\nF =# \\\r\n d\r\noverride override != \\\r\n-g -O2#-g\r\n"))) ∷  -- more-534
    (codes "d:: # c\r\nifdef A\nF\\\n= $$#\nexport a.b ?= a$\\ \\\r\n b |\\\n a\\\\ a\\\\\nF=a a\n", ChangeValue Every (codes "F") (edits.Add (codes "b")), Accepted 2 2 (span 24 24 (codes " b") ∷ span 67 67 (codes " b") ∷ []) (Becomes (codes "d:: # c\r\nifdef A\nF\\\n= $$ b#\nexport a.b ?= a$\\ \\\r\n b |\\\n a\\\\ a\\\\\nF=a a b\n"))) ∷  -- more-539
    (codes ".RECIPEPREFIX = >\nX = $\\\n \\\n    \\# \\\n d\n", ChangeValue Every (codes "+") (edits.Set (codes "a")), NotMade 0 (BadArgument field.Name)) ∷  -- more-541
    (codes "X =$\n.RECIPEPREFIX = >\nX = -O2\n", ChangeValue Every (codes "X") (edits.Remove (codes "-O2")), Accepted 1 1 (span 27 30 [] ∷ []) (Becomes (codes "X =$\n.RECIPEPREFIX = >\nX = \n"))) ∷  -- more-543
    (codes "a.b = \\ $(p #) \r\n \\\r\n\r\nF\\\r\n?= $\\ $\\\r\nF= \\\r\n    \r\n", ChangeValue Every (codes "a.b") (edits.Append (codes "b")), Accepted 1 1 (span 14 14 (codes " b") ∷ []) (Becomes (codes "a.b = \\ $(p #) b \r\n \\\r\n\r\nF\\\r\n?= $\\ $\\\r\nF= \\\r\n    \r\n"))) ∷  -- more-557
    (codes "c: ; true\n\trm -f x\nF = $(a b) \\\n    -O2 -g\\\n -O2 \\\n    a\nifdef A\noverride F = x=1 # a \\\\\nelse\noverride\\\n= $(t \\\n -g) \\\n \\\n -O2\\\n\t-g -g  ;\nendif\nc: a\n\t\ttrue\nF ::=\t\n", ChangeValue Every (codes "override") (edits.Add (codes "\\#")), Accepted 1 1 (span 137 137 (codes " \\#") ∷ []) (Becomes (codes "c: ; true\n\trm -f x\nF = $(a b) \\\n    -O2 -g\\\n -O2 \\\n    a\nifdef A\noverride F = x=1 # a \\\\\nelse\noverride\\\n= $(t \\\n -g) \\\n \\\n -O2\\\n\t-g -g  ; \\#\nendif\nc: a\n\t\ttrue\nF ::=\t\n"))) ∷  -- more-568
    (codes "c: ;\nifdef A\n\t\n\ttrue\nifdef A\nF= \nelse\nexport F ?= -g\\\n -g\\\n\tx=1\t$  a\\\\\nendif\nx.o: ; true\n>a\n>true\n>x \\ y\n>a\\\n b\n", ChangeValue Every (codes "F") (edits.Remove (codes "x=1")), Accepted 1 1 (span 57 63 [] ∷ []) (Becomes (codes "c: ;\nifdef A\n\t\n\ttrue\nifdef A\nF= \nelse\nexport F ?= -g\\\n -g\t$  a\\\\\nendif\nx.o: ; true\n>a\n>true\n>x \\ y\n>a\\\n b\n"))) ∷  -- more-569
    (codes ".RECIPEPREFIX = >\noverride ?=b a:b -O2 \nd&: ;\n\tt\n\ta\\\n b\n\ta\\\n>b\n\tifdef Q\nc: a | b\nF ?= x=1 = #-g\n", ChangeValue Every (codes "override") (edits.Remove (codes "b")), Accepted 1 1 (span 29 31 [] ∷ []) (Becomes (codes ".RECIPEPREFIX = >\noverride ?=a:b -O2 \nd&: ;\n\tt\n\ta\\\n b\n\ta\\\n>b\n\tifdef Q\nc: a | b\nF ?= x=1 = #-g\n"))) ∷  -- more-572
    (codes ".RECIPEPREFIX = >\nifdef A\nX!= \nelse\nF\\\n!= \nendif\nc:\n\tt\nF =x=1 \n\t>a\n\t \nd: a | b\nF\\\n= -g \\\n    |\n\ta\\\n>b\n\t\n\t>a\nF := $$\n", ChangeValue Every (codes "F") (edits.Remove (codes "-O2")), NotMade 0 Absent) ∷  -- more-578
    (codes "ifdef A\noverride+= -O2 -O2\nendif\n", ChangeValue Every (codes "override") (edits.Remove (codes "-O2")), Accepted 1 1 (span 19 26 [] ∷ []) (Becomes (codes "ifdef A\noverride+= \nendif\n"))) ∷  -- more-582
    (codes "F\\\n= $\\\n\tb # \\\n d\n", ChangeValue Every (codes "F") (edits.Append (codes "a")), Accepted 1 1 (span 10 10 (codes " a") ∷ []) (Becomes (codes "F\\\n= $\\\n\tb a # \\\n d\n"))) ∷  -- more-586
    (codes ".RECIPEPREFIX = >\na.b != # x ; y : z = 1\nc&: a\n\t\ttrue\n\tb\n\ta\nX ?=a \\\n| \\\nb\nF\\\n:= | a ${c}", ChangeValue Every (codes "X") (edits.Append (codes "$(w a)")), Accepted 1 1 (span 73 73 (codes " $(w a)") ∷ []) (Becomes (codes ".RECIPEPREFIX = >\na.b != # x ; y : z = 1\nc&: a\n\t\ttrue\n\tb\n\ta\nX ?=a \\\n| \\\nb $(w a)\nF\\\n:= | a ${c}"))) ∷  -- more-594
    (codes "F != -O2 x=1# a \\\\\nifdef A\nF =-g#\nelse\nF = b\\\n $(w \\\n a)\nendif\nifdef A\nF= |  $(A -g) $# \nelse\nF ?=\\\n\tb\\\n\t= $\\# a \\\\\nendif", ChangeValue Every (codes "F") (edits.Remove (codes "a")), NotMade 0 Absent) ∷  -- more-599
    (codes "x.o: a\n\tt\n\ta\n\tifdef Q\n.RECIPEPREF=IX =\0>\n", ChangeValue Every (codes "F") (edits.Remove (codes "$(s (b) a)")), NotMade 0 NoSuch) ∷  -- more-601
    (codes "F =a -O2  = -O2 \\\na\\\n\t\nF = -O2\\\n$(s (b) a) \\\nb \\\n    #-g\nd: # c\n>t\n>ifdef Q\n # n\nc:: ;\n\tt\n\tb\noverride F\\\n= x=1 |\t= \\\n    -g $(a\tb)\n\t>a\n$(f {):foo\\\r\n:$(f {) | x.o x=1\\\n\t\\\r\n\n", ChangeValue Every (codes "F") (edits.Remove (codes "b")), Accepted 1 1 (span 42 46 [] ∷ []) (Becomes (codes "F =a -O2  = -O2 \\\na\\\n\t\nF = -O2\\\n$(s (b) a) \\\n    #-g\nd: # c\n>t\n>ifdef Q\n # n\nc:: ;\n\tt\n\tb\noverride F\\\n= x=1 |\t= \\\n    -g $(a\tb)\n\t>a\n$(f {):foo\\\r\n:$(f {) | x.o x=1\\\n\t\\\r\n\n"))) ∷  -- more-606
    (codes "F\\\n= ${c}\\\n\t= =\noverride\\\n=a:b a\\$ \\\n \\\n |\noverride F\\\n= $x -g -g\n", ChangeValue Every (codes "F") (edits.Remove (codes "-g")), Accepted 1 1 (span 59 62 [] ∷ span 62 65 [] ∷ []) (Becomes (codes "F\\\n= ${c}\\\n\t= =\noverride\\\n=a:b a\\$ \\\n \\\n |\noverride F\\\n= $x\n"))) ∷  -- more-608
    (codes "X != ; $(u $\\\\\n\nF = -g\\\n = = -g\n", ChangeValue Every (codes "F") (edits.Remove (codes "=")), Accepted 1 1 (span 22 26 [] ∷ span 26 28 [] ∷ []) (Becomes (codes "X != ; $(u $\\\\\n\nF = -g -g\n"))) ∷  -- more-609
    (codes "a.b =a a -g -O2 \n", ChangeValue Every (codes "a.b") (edits.Set []), Accepted 1 1 (span 5 16 [] ∷ []) (Becomes (codes "a.b =\n"))) ∷  -- more-617
    (codes "ifdef A\nF = -g \nelse\nF= $(s (b) a) b\nendif\n", ChangeValue Every (codes "F") (edits.Set []), Accepted 2 2 (span 12 15 [] ∷ span 24 36 [] ∷ []) (Becomes (codes "ifdef A\nF = \nelse\nF= \nendif\n"))) ∷  -- more-622
    (codes "ifde\\\nA\noverride F ::=\\\n \nendif\nF= $(w \\\n a) a:b\\\n", ChangeValue Every (codes "F") (edits.Remove (codes "$(w a)")), NotMade 1 OpenValue) ∷  -- more-623
    (codes "ifdef A\noverride\\\n?= a  a\\\\\nelse\nF != = \\\n    =\\\n-g \\\n \\\n $(s (b) a) Ã©\nendif\nendef+= \\\\ \\\n# \\\n", ChangeValue Every (codes "override") (edits.Add (codes "a:b")), Accepted 1 1 (span 27 27 (codes " a:b") ∷ []) (Becomes (codes "ifdef A\noverride\\\n?= a  a\\\\ a:b\nelse\nF != = \\\n    =\\\n-g \\\n \\\n $(s (b) a) Ã©\nendif\nendef+= \\\\ \\\n# \\\n"))) ∷  -- more-633
    (codes "ovrride ::= -O2 \\\r\n \\\r\n | \\\r\n    ;\r\nF = | | b #-g\r\nifdef A\r\nF\\\r\n!= x=1\\\r\n\t$#\\\r\n-g#-g\r\nelse\r\nF ?= # c\r\nendif\r\nF!=$# -g", ChangeValue Every (codes "F") (edits.Remove (codes "-g")), Accepted 2 2 (span 76 81 [] ∷ span 114 117 [] ∷ []) (Becomes (codes "ovrride ::= -O2 \\\r\n \\\r\n | \\\r\n    ;\r\nF = | | b #-g\r\nifdef A\r\nF\\\r\n!= x=1\\\r\n\t$##-g\r\nelse\r\nF ?= # c\r\nendif\r\nF!=$#"))) ∷  -- more-634
    (codes "X\\\n!= \\# b b# \\\n d\nF ::= Ã© -g a:b -g\nF =b\n", ChangeValue Every (codes "F") (edits.Add (codes "x$(a  b)")), Accepted 2 2 (span 37 37 (codes " x$(a  b)") ∷ span 42 42 (codes " x$(a  b)") ∷ []) (Becomes (codes "X\\\n!= \\# b b# \\\n d\nF ::= Ã© -g a:b -g x$(a  b)\nF =b x$(a  b)\n"))) ∷  -- more-635
    (codes "override ?= x$(a  b) # c\r\nd: a\r\n\t\r\n\ta\\\\\r\n \r\nifdef A\r\noverride = a\\$\\\r\n\\\r\n$\\\r\nelse\r\nF\\\r\n!=\\\r\n\tx=1 b \r\nendif\r\n", ChangeValue Every (codes "F") (edits.Remove (codes "x=1")), Accepted 1 1 (span 93 97 [] ∷ []) (Becomes (codes "override ?= x$(a  b) # c\r\nd: a\r\n\t\r\n\ta\\\\\r\n \r\nifdef A\r\noverride = a\\$\\\r\n\\\r\n$\\\r\nelse\r\nF\\\r\n!=\\\r\n\tb \r\nendif\r\n"))) ∷  -- more-636
    (codes ".RECIPEPREFIX = >\nF =\\\n |\\\n\\\n-O2 $\tb) -O2# \\d\nF\\\n!=  \\\n", ChangeValue Every (codes "F") (edits.Remove (codes "\\")), NotMade 1 (BadArgument field.Word)) ∷  -- more-637
    (codes "a.b ?= a \\\r\n x=1\nd: ; true\n\tsay \"q\"\n\t a\nifeq (a,b)\nc: ;\nF += -O2 a \\\\\nifdef A\n", ChangeValue Every (codes "a.b") (edits.Append (codes "a $(a b)")), Accepted 1 1 (span 16 16 (codes " a $(a b)") ∷ []) (Becomes (codes "a.b ?= a \\\r\n x=1 a $(a b)\nd: ; true\n\tsay \"q\"\n\t a\nifeq (a,b)\nc: ;\nF += -O2 a \\\\\nifdef A\n"))) ∷  -- more-638
    (codes "a.b =-g\t-O2 = b -g", ChangeValue Every (codes "a.b") (edits.Append (codes "b")), Accepted 1 1 (span 18 18 (codes " b") ∷ []) (Becomes (codes "a.b =-g\t-O2 = b -g b"))) ∷  -- more-639
    (codes "F = \na&b ::-x_9 := x  y# \\\n", ChangeValue Every (codes "F") (edits.Append (codes "$(a b) a")), Accepted 1 1 (span 4 4 (codes "$(a b) a") ∷ []) (Becomes (codes "F = $(a b) a\na&b ::-x_9 := x  y# \\\n"))) ∷  -- more-643
    (codes "X\\\n= x=1 a\\\n \n$(f {) \\\n \\\n : : a&b\\\n\\\n: ${g(} $(a b) | $x ", ChangeValue Every (codes "X") (edits.Set (codes "-g")), Accepted 1 1 (span 5 10 (codes "-g") ∷ []) (Becomes (codes "X\\\n= -g\\\n \n$(f {) \\\n \\\n : : a&b\\\n\\\n: ${g(} $(a b) | $x "))) ∷  -- more-644
    (codes "F\\\r\n::= -g\\\r\nb\r\n", ChangeValue Every (codes "F") (edits.Append (codes "b -g")), Accepted 1 1 (span 14 14 (codes " b -g") ∷ []) (Becomes (codes "F\\\r\n::= -g\\\r\nb b -g\r\n"))) ∷  -- more-648
    (codes "ifdef A\na.b = b#\nendif\nF ::= -O2 b -g\\\n -g# \\\n d\n", ChangeValue Every (codes "a.b") (edits.Set []), Accepted 1 1 (span 14 15 [] ∷ []) (Becomes (codes "ifdef A\na.b = #\nendif\nF ::= -O2 b -g\\\n -g# \\\n d\n"))) ∷  -- more-650
    (codes " #\\\\\\\r\n\r\nF != -O2\\\r\n\\\r\nx=1\\\r\n\\\r\na \\\r\n= \r\nX = -g a\r\n\t#c \\\r\n d\r\n", ChangeValue Every (codes "F") (edits.Remove (codes "-O2")), Accepted 1 1 (span 14 23 [] ∷ []) (Becomes (codes " #\\\\\\\r\n\r\nF != x=1\\\r\n\\\r\na \\\r\n= \r\nX = -g a\r\n\t#c \\\r\n d\r\n"))) ∷  -- more-664
    (codes "c: # c\r\n>a\\\n b\nifeq (a,b)\nendif\nendif\nd: a\n\tt\n\t\ttrue\n\tb\nc&:\na.b=a\\\\ =\n\tifdef Q\n\tifdef Q\n\trm -f x\nd:\n\tsay \"q\"\n\\\n\t", ChangeValue Every (codes "a.b") (edits.Set []), Accepted 1 1 (span 64 69 [] ∷ []) (Becomes (codes "c: # c\r\n>a\\\n b\nifeq (a,b)\nendif\nendif\nd: a\n\tt\n\t\ttrue\n\tb\nc&:\na.b=\n\tifdef Q\n\tifdef Q\n\trm -f x\nd:\n\tsay \"q\"\n\\\n\t"))) ∷  -- more-667
    (codes "F = b b \\\r\n \\\\\\\\ \n\noverride F\\\n= a x=1  # \\\n d\n", ChangeValue Every (codes "F") (edits.Remove (codes "\\\\\\\\")), NotMade 1 (BadArgument field.Word)) ∷  -- more-668
    (codes "F:= \\\n \\\n -O2 #\nc: ;\nifdef A\n\tt\n\t\n", ChangeValue Every (codes "F") (edits.Remove (codes "-O2")), Accepted 1 1 (span 10 14 [] ∷ []) (Becomes (codes "F:= \\\n \\\n #\nc: ;\nifdef A\n\tt\n\t\n"))) ∷  -- more-669
    (codes "X =\nifdefa\\\\\nb = -g \nend>if\n", ChangeValue Every (codes "b") (edits.Append (codes "a b")), Accepted 1 1 (span 19 19 (codes " a b") ∷ []) (Becomes (codes "X =\nifdefa\\\\\nb = -g a b \nend>if\n"))) ∷  -- more-677
    (codes "F != $\\", ChangeValue Every (codes "Y!") (edits.Remove (codes "x$(a  b)")), NotMade 0 (BadArgument field.Name)) ∷  -- more-678
    (codes "ifdef A\r\nF = -O2  -g -O2 \r\nendif\r\n", ChangeValue Every (codes "F") (edits.Append []), NotMade 1 (BadArgument field.Value)) ∷  -- more-679
    (codes "F\\\n:= -g\nc:\nifeq (a,b)\nF = $(t \\\n -g) \\\n \\\n $(w \\\n a) =", ChangeValue Every (codes "F") (edits.Append (codes "$(a b)")), Accepted 2 2 (span 8 8 (codes " $(a b)") ∷ span 55 55 (codes " $(a b)") ∷ []) (Becomes (codes "F\\\n:= -g $(a b)\nc:\nifeq (a,b)\nF = $(t \\\n -g) \\\n \\\n $(w \\\n a) = $(a b)"))) ∷  -- more-680
    (codes ".RECIPEPREFIX = >\nc c: ;\n>>a\n>ifdef Q\n>x \\ y\n>rm -f x\nc d: a\n\nc: ;\n\tx \\ y\n\ttrue\nendif\noverride a.b :=\t$(s (b) a) \\\n \\\n -O2 $\\\n\n.RECIPEPREFIX = >\n", ChangeValue Every (codes "a.b") (edits.Append (codes "-g")), Accepted 1 1 (span 126 126 (codes " -g") ∷ []) (Becomes (codes ".RECIPEPREFIX = >\nc c: ;\n>>a\n>ifdef Q\n>x \\ y\n>rm -f x\nc d: a\n\nc: ;\n\tx \\ y\n\ttrue\nendif\noverride a.b :=\t$(s (b) a) \\\n \\\n -O2 $\\\n -g\n.RECIPEPREFIX = >\n"))) ∷  -- more-681
    (codes "export F=$# $(s (b) a)  $\\ # \\\n d", ChangeValue Every (codes "F") (edits.Append []), NotMade 1 (BadArgument field.Value)) ∷  -- more-682
    (codes "F\\\n= ; ; \n\\!\nF::= ;\ta\\$ $$\\\n\\\na\\\n\\\n-O2\n\nc: # c\n\tb\n\ttrue", ChangeValue Every (codes "F") (edits.Append (codes "$(w a)")), Accepted 2 2 (span 8 8 (codes " $(w a)") ∷ span 38 38 (codes " $(w a)") ∷ []) (Becomes (codes "F\\\n= ; ; $(w a) \n\\!\nF::= ;\ta\\$ $$\\\n\\\na\\\n\\\n-O2 $(w a)\n\nc: # c\n\tb\n\ttrue"))) ∷  -- more-683
    (codes "F =a:b $(w \\\r\n a)\\\n\t-g a\nX += a#-g\nX =a:b\\\n-g \\\n \\\n \nF := -g ${v a \n", ChangeValue Every (codes "X") (edits.Add (codes "b")), Accepted 2 2 (span 31 31 (codes " b") ∷ span 45 45 (codes " b") ∷ []) (Becomes (codes "F =a:b $(w \\\r\n a)\\\n\t-g a\nX += a b#-g\nX =a:b\\\n-g b \\\n \\\n \nF := -g ${v a \n"))) ∷  -- more-685
    (codes "F = a\r\nd: a\r\n>true\r\n>true\r\n>t\r\nc c: a | b\r\n\ty\r{\trm -f x\r\nelse\r\n\ta\r\n", ChangeValue Every (codes "F") (edits.Remove (codes "a")), Accepted 1 1 (span 4 5 [] ∷ []) (Becomes (codes "F = \r\nd: a\r\n>true\r\n>true\r\n>t\r\nc c: a | b\r\n\ty\r{\trm -f x\r\nelse\r\n\ta\r\n"))) ∷  -- more-686
    (codes ".RECIPEPREFIX = >\r\nifdef A\r\nF = a \\\r\n \\\r\n \r\nelse\r\noverride F\\\r\n?= |  = \r\nendif\r\nifdef A\r\nF = b\\\r\nx=1  \r\nendif\r\noverride\\\r\n= a\\  -g \\\r\n    \r\nF +=; | b# \\\r\n d\r\n.RECIPEPREFIX = >\r\n", ChangeValue Every (codes "X") (edits.Remove (codes "b")), NotMade 0 NoSuch) ∷  -- more-688
    (codes "ifdef A\r\nF\\\r\n::= -g \\ b#-g\r\nelse\r\nF = b $(a b) \r\nendif\r\nc&: # c\r\n\ta # b\r\n\trm -rf x\r\n\t>a\r\n\ttrue\r\nx.o: # c\r\nc:\r\n# n\r\n\tx \\ y\r\nX ::= ;", ChangeValue Every (codes "F") (edits.Add (codes "\\#")), Accepted 2 2 (span 23 23 (codes " \\#") ∷ span 46 46 (codes " \\#") ∷ []) (Becomes (codes "ifdef A\r\nF\\\r\n::= -g \\ b \\##-g\r\nelse\r\nF = b $(a b) \\# \r\nendif\r\nc&: # c\r\n\ta # b\r\n\trm -rf x\r\n\t>a\r\n\ttrue\r\nx.o: # c\r\nc:\r\n# n\r\n\tx \\ y\r\nX ::= ;"))) ∷  -- more-691
    (codes "ifdef A\r\nF= x=1 $#\nelse\nF\\\n::= a -g $\tb\nendif\na.b\\\n= a# a \\\\\nifdef A\na.b = a:b -g\\\n$\\ a $$\nelse\nF\\\n= Ã©\\\n-g $\\ -g  -g\nendif\nF = a ${c} \\\n \\\n = \nX=$(s (b) a) b -g#\n", ChangeValue Every (codes "F") (edits.Append (codes "b $(A -g)")), Accepted 4 4 (span 18 18 (codes " b $(A -g)") ∷ span 39 39 (codes " b $(A -g)") ∷ span 117 117 (codes " b $(A -g)") ∷ span 142 142 (codes " b $(A -g)") ∷ []) (Becomes (codes "ifdef A\r\nF= x=1 $# b $(A -g)\nelse\nF\\\n::= a -g $\tb b $(A -g)\nendif\na.b\\\n= a# a \\\\\nifdef A\na.b = a:b -g\\\n$\\ a $$\nelse\nF\\\n= Ã©\\\n-g $\\ -g  -g b $(A -g)\nendif\nF = a ${c} \\\n \\\n = b $(A -g) \nX=$(s (b) a) b -g#\n"))) ∷  -- more-693
    []

answers_3 : map (λ row. account row.0 row.1) rows_3 ≡ map (λ row. row.2) rows_3
answers_3 = refl

abbrev rows_4 : List (List ℕ × Edit × Account)
rows_4 =
    (codes ".RECIPEPREFIX = >\n%.o:: a | b\n>\ttrue\nendif\n>true\n", ChangeValue Every (codes "\\#x") (edits.Set (codes "b")), NotMade 0 (BadArgument field.Name)) ∷  -- more-695
    (codes "c:: a | b\r\n \r\n\t\\\r\n\r\n\t# n", ChangeValue Every (codes "X") (edits.Remove (codes "$(a b)")), NotMade 0 NoSuch) ∷  -- more-698
    (codes "ifdef A\noverride != b -g \\\n    -g a:b\\\n\t-g\nelse\noverride ::= | \nendif\n", ChangeValue Every (codes "override") (edits.Append (codes "a")), Accepted 2 2 (span 42 42 (codes " a") ∷ span 62 62 (codes " a") ∷ []) (Becomes (codes "ifdef A\noverride != b -g \\\n    -g a:b\\\n\t-g a\nelse\noverride ::= | a \nendif\n"))) ∷  -- more-701
    (codes "F\\\r\n!=\r\nexport X\\\r\n:=b#\r\nifdef A\r\noverride =$(u = -O2\t-g\r\nelse\r\nX\\\r\n= a a $# \r\nendif", ChangeValue Every (codes "X") (edits.Set (codes "-g $ b")), Accepted 2 2 (span 21 22 (codes "-g $ b") ∷ span 70 76 (codes "-g $ b") ∷ []) (Becomes (codes "F\\\r\n!=\r\nexport X\\\r\n:=-g $ b#\r\nifdef A\r\noverride =$(u = -O2\t-g\r\nelse\r\nX\\\r\n= -g $ b \r\nendif"))) ∷  -- more-702
    (codes "ifdef A\nF = b \\\r\n $\\# \\\n d\nelse\nF = a#\nendif\nc:\n>t\n>a\nifdef A\n.RECIPEPREFIX = >", ChangeValue Every (codes "F") (edits.Remove (codes "b")), NotMade 1 RecipePrefix) ∷  -- more-706
    (codes "X = -g \\\r\n -O2 = -g#-g", ChangeValue Every (codes "X") (edits.Add (codes "${c}")), Accepted 1 1 (span 19 19 (codes " ${c}") ∷ []) (Becomes (codes "X = -g \\\r\n -O2 = -g ${c}#-g"))) ∷  -- more-707
    (codes "$$: |\\\r\nfoo \r\nF\\\r\n=# c\\\n", ChangeValue Every (codes "X") (edits.Add (codes "$(u")), NotMade 0 (BadArgument field.Word)) ∷  -- more-711
    (codes "endef\r\nX?= ${c} ${c} \\\r\n x=1 \\\r\n \\\r\n -g\r\n", ChangeValue Every (codes "X") (edits.Remove (codes "-g")), Accepted 1 1 (span 28 39 [] ∷ []) (Becomes (codes "endef\r\nX?= ${c} ${c} \\\r\n x=1\r\n"))) ∷  -- more-712
    (codes "export X\\\n+= $(t \\\n -g)\nifdef A\nF = \\\r\n a \\\n$(s (b) a) -g#-g\nelse\nF =-g #-g\nendif\n", ChangeValue Every (codes "F") (edits.Append (codes ";")), Accepted 2 2 (span 57 57 (codes " ;") ∷ span 71 71 (codes " ;") ∷ []) (Becomes (codes "export X\\\n+= $(t \\\n -g)\nifdef A\nF = \\\r\n a \\\n$(s (b) a) -g ;#-g\nelse\nF =-g ; #-g\nendif\n"))) ∷  -- more-714
    (codes "ifdef A\r\nexport X\\\r\n:= -O2 b -g a x$(a  b)#\r\nelse\r\nX\\\r\n= \\ -O2# c\r\nendif\r\nprivate \tt1 != \t$(p #)\r\nX= \r\n", ChangeValue Every (codes "X") (edits.Add (codes "a")), Accepted 2 2 (span 62 62 (codes " a") ∷ span 101 101 (codes "a") ∷ []) (Becomes (codes "ifdef A\r\nexport X\\\r\n:= -O2 b -g a x$(a  b)#\r\nelse\r\nX\\\r\n= \\ -O2 a# c\r\nendif\r\nprivate \tt1 != \t$(p #)\r\nX= a\r\n"))) ∷  -- more-717
    (codes "F := a -g \\\n \\\n b a\\ \\\n\\\n; #\noverride X\\\n!= $# -g b\\\n\\\nx$(a  b)\\\n\\\na\nX +=a\n", ChangeValue Every (codes "X") (edits.Add (codes "x$(a  b)")), Accepted 1 1 (span 74 74 (codes " x$(a  b)") ∷ []) (Becomes (codes "F := a -g \\\n \\\n b a\\ \\\n\\\n; #\noverride X\\\n!= $# -g b\\\n\\\nx$(a  b)\\\n\\\na\nX +=a x$(a  b)\n"))) ∷  -- more-719
    (codes "F ?= -g#-g\nF\\\n= a =\n", ChangeValue Every (codes "F") (edits.Add (codes "x=1")), Accepted 2 2 (span 7 7 (codes " x=1") ∷ span 19 19 (codes " x=1") ∷ []) (Becomes (codes "F ?= -g x=1#-g\nF\\\n= a = x=1\n"))) ∷  -- more-720
    (codes "${g(}::\t.RECIPEPREFIX += b .PHONY $  \r\nifdef A\r\nF = | \\\r\n$(a\tb) \r\nelse\r\noverride :=x=1 ;\r\nendif\r\nifdef A\r\nF\\\r\n!= $ \\\r\n $\\ |#\r\nelse\r\nF\\\r\n+= \\# x=1 \\\r\n x$(a  b) #\r\nendif\r\n", ChangeValue Every (codes "F") (edits.Remove (codes "=")), NotMade 0 Absent) ∷  -- more-721
    (codes ".RECIPEPREFIX = >\nc&: ;\n\t\n\ttrue\n\tb\noverride F\\\n:= #-g\nc: a\n\ta # b\n\tx \\ y\nF::= b# \\\n d\nX = a", ChangeValue Every (codes "F") (edits.Remove (codes "$(A -g)")), NotMade 0 Absent) ∷  -- more-722
    (codes "F\\\n=-g \\\n    $(t \\\n -g) a$\\\\\n\\\nx=1\nc c: # c\n\ttrue \\\r\n\ttrue\n\t>a\n\ta\n\t>a\n.RECIPEPREFIX = \nifdef A\nX:= $(a b)#\nelse\noverride F = -g\t$(s (b) a)\ta a:b -g#-g\nendif\n", ChangeValue Every (codes "F") (edits.Remove (codes "-g")), NotMade 2 OpenValue) ∷  -- more-723
    (codes "X = a -g # \\\n d\n", ChangeValue Every (codes "X") (edits.Add (codes "a")), NotMade 0 Already) ∷  -- more-725
    (codes "ifdef A\nF !== \\\\\\\\\nelse\noverride +=a\t-O2\t|\nendif\nc: ; true\nc: ; true\n\tifdef Q\n\ttrue\n\t\n\tt\nifdef A\noverride F:= a$ \\\n -O2\nendif\na.b ?= a\\\n\t$(u \n", ChangeValue Every (codes "F") (edits.Set (codes "-g")), Accepted 2 2 (span 12 18 (codes "-g") ∷ span 110 119 (codes "-g") ∷ []) (Becomes (codes "ifdef A\nF !=-g\nelse\noverride +=a\t-O2\t|\nendif\nc: ; true\nc: ; true\n\tifdef Q\n\ttrue\n\t\n\tt\nifdef A\noverride F:= -g\nendif\na.b ?= a\\\n\t$(u \n"))) ∷  -- more-728
    (codes ".RECIPEPREFIX = >\n", ChangeValue Every (codes "F") (edits.Append (codes "-O2")), NotMade 0 NoSuch) ∷  -- more-730
    (codes "foo: \nd: # c\n># n\nelse\nifeq (a,b)\noverride := \\\r\n b a:b\\\n$ Ã© -g\\\n\t# c", ChangeValue Every (codes "override") (edits.Remove (codes "$ Ã©")), Accepted 1 1 (span 55 61 [] ∷ []) (Becomes (codes "foo: \nd: # c\n># n\nelse\nifeq (a,b)\noverride := \\\r\n b a:b -g\\\n\t# c"))) ∷  -- more-734
    (codes "override X= \nifdef A\nX = -O2# \\\n d\nelse\nF=a \\\r\n -g \nendif\nF\\\n:= \nX\\\n= $(u -g\\\n\\\n${v a\\\n\t-O2#-g\n", ChangeValue Every (codes "X") (edits.Append (codes "$(t -g) =")), NotMade 3 OpenValue) ∷  -- more-736
    (codes "ifdef A\r\nF = \\\\\\\\\r\nelse\r\nF= #\r\nendif\r\nc:: # c\r\n\t a\r\n\t\ttrue\r\n\tt\r\n\ta\r\nc: ; true\r\n# n\r\n\trm -rf x\r\n\t>a\r\nifdef A\r\nX = a:b \\\r\n b \\\r\n \\ \r\nendif\r\nF\\\r\n:=|#-g\r\n", ChangeValue Every (codes "F") (edits.Remove (codes "\\\\\\\\")), NotMade 1 (BadArgument field.Word)) ∷  -- more-737
    (codes "%.o:: a | b\n\tx \\ y\n\ttrue\n\tifdef Q\nF ::= -g\\\n-g # a \\\\\nF = -g x=1 -g \\\na a \nifdef A\nF ::= -g ;# a \\\\\nelse\na.b ?=b b\\\n\t-g  \nendif\n\t#\\\\\\\n\n", ChangeValue Every (codes "F") (edits.Set (codes "a\\ b x$(a  b)")), Accepted 3 3 (span 40 46 (codes "a\\ b x$(a  b)") ∷ span 58 73 (codes "a\\ b x$(a  b)") ∷ span 89 93 (codes "a\\ b x$(a  b)") ∷ []) (Becomes (codes "%.o:: a | b\n\tx \\ y\n\ttrue\n\tifdef Q\nF ::= a\\ b x$(a  b) # a \\\\\nF = a\\ b x$(a  b) \nifdef A\nF ::= a\\ b x$(a  b)# a \\\\\nelse\na.b ?=b b\\\n\t-g  \nendif\n\t#\\\\\\\n\n"))) ∷  -- more-739
    (codes "\\\n\t\nd: a", ChangeValue Every (codes "F") (edits.Remove (codes "$(t -g)")), NotMade 0 NoSuch) ∷  -- more-741
    (codes "override =-g# a \\\nc:\n\ta\n\t\n\ty\r\n", ChangeValue Every (codes "override") (edits.Add (codes "-g")), NotMade 0 Already) ∷  -- more-742
    (codes "override F?= a a\\\n a #-g\noverride ?=\t\\\\ x=1 -g\\\n\\\\\\\\\nc: a\n\ttrue\n# n\nc: # c\n\t\n\t\n\ty\r\n\tsay \"q\"", ChangeValue Every (codes "override") (edits.Append (codes "-O2")), Accepted 1 1 (span 52 52 (codes " -O2") ∷ []) (Becomes (codes "override F?= a a\\\n a #-g\noverride ?=\t\\\\ x=1 -g\\\n\\\\\\\\ -O2\nc: a\n\ttrue\n# n\nc: # c\n\t\n\t\n\ty\r\n\tsay \"q\""))) ∷  -- more-745
    (codes "X !=\\\n\\\n\ninclude:: ;\n\t\nelse\n\t a\n\tb\n%.o: ; true\n\t a\n\ttrue\n\ttrue", ChangeValue Every (codes "X") (edits.Remove (codes "$(s (b) a)")), NotMade 0 Absent) ∷  -- more-746
    (codes "export X != a\\\\ a$  a\\ \t; \n\nF = \\\n    | \\\n    -g \nF != -g $x ; \\\n-O2 -O2 # a \\\\\n", ChangeValue Every (codes "F") (edits.Add (codes "$x")), Accepted 1 1 (span 48 48 (codes " $x") ∷ []) (Becomes (codes "export X != a\\\\ a$  a\\ \t; \n\nF = \\\n    | \\\n    -g $x \nF != -g $x ; \\\n-O2 -O2 # a \\\\\n"))) ∷  -- more-748
    (codes "ifdef A\nF = a$ \\\n -O2\nelse\nF = #\nendif\nc:: ;\n>a\n>\n>\ttrue\noverride\\\n=  \n", ChangeValue Every (codes "F") (edits.Append (codes "-g")), Accepted 2 2 (span 21 21 (codes " -g") ∷ span 31 31 (codes "-g") ∷ []) (Becomes (codes "ifdef A\nF = a$ \\\n -O2 -g\nelse\nF = -g#\nendif\nc:: ;\n>a\n>\n>\ttrue\noverride\\\n=  \n"))) ∷  -- more-751
    (codes "ifdef A\nX += \nelse\noverride ::= $(A -g) ; \nendif\nc: ;\n>a \\\n\tb\n", ChangeValue Every (codes "F") (edits.Remove (codes "a\\\\")), NotMade 0 (BadArgument field.Word)) ∷  -- more-752
    (codes "override\\\n= -g # c\nF += -O2 #\n>CC :::= foo\n", ChangeValue Every (codes ">CC") (edits.Append []), NotMade 1 (BadArgument field.Name)) ∷  -- more-754
    (codes "d x.o: a | b\n\trm -f x\nX= x=1 a \\\r\n $(s (b) a) -O2 ; \nifdef A\nF :=\\\n -g\nelse\nF\\\n+= a -g\nendif\ninclude&: # c\n\tsay \"q\"\n\ta\\\n b\n\ta\n#b\\\n\t\\\nb\t\\\n$\0endefendef=", ChangeValue Every (codes "X") (edits.Set []), Accepted 1 1 (span 25 52 [] ∷ []) (Becomes (codes "d x.o: a | b\n\trm -f x\nX= \nifdef A\nF :=\\\n -g\nelse\nF\\\n+= a -g\nendif\ninclude&: # c\n\tsay \"q\"\n\ta\\\n b\n\ta\n#b\\\n\t\\\nb\t\\\n$\0endefendef="))) ∷  -- more-759
    (codes "d&: a | b\n\t\ttrue\n\t\n\t>a\noverride F ?= a\\$ $(t \\\n -g) \\\n \\\n b \\\n    \\\nF\\\n:= \\# -g \\\n$ | Ã©# \\\n d\n", ChangeValue Every (codes "F") (edits.Set (codes "a $(A -g)")), Accepted 1 1 (span 37 88 (codes "a $(A -g)") ∷ []) (Becomes (codes "d&: a | b\n\t\ttrue\n\t\n\t>a\noverride F ?= a $(A -g)# \\\n d\n"))) ∷  -- more-763
    (codes "override X\\\r\n=$(w \\\r\n a)\t$(w \\\r\n a)\\\r\nb  a", ChangeValue Every (codes "X") (edits.Append []), NotMade 1 (BadArgument field.Value)) ∷  -- more-764
    (codes "c:: # c\r\n\ttrue\r\n\t>a\r\nc %.o:\r\n\tx \\ y\r\n\ta # b\r\n\tx \\ y\r\nF =; a$  -g", ChangeValue Every (codes "F") (edits.Add (codes "-g")), NotMade 0 Already) ∷  -- more-767
    (codes "F+= $\\ -O=\n", ChangeValue Every (codes "F") (edits.Set []), Accepted 1 1 (span 4 10 [] ∷ []) (Becomes (codes "F+= \n"))) ∷  -- more-770
    (codes "X !=b\\\n =\\\n\t\\# a \n", ChangeValue Every (codes "X") (edits.Remove (codes "b")), Accepted 1 1 (span 4 8 [] ∷ []) (Becomes (codes "X !==\\\n\t\\# a \n"))) ∷  -- more-776
    (codes "c: ; true\n\ttrue\n\ta \\\n\tb\n", ChangeValue Every (codes "F") (edits.Append (codes "a")), NotMade 0 NoSuch) ∷  -- more-777
    (codes "ifdef A\nF ==\\\n b a\nelse\nF\\\n:= \\\r\n \nendif\nc&: # c\n\tsay \"q\"\nF\\\n::= # c\n", ChangeValue Every (codes "F") (edits.Add (codes "b")), Accepted 2 2 (span 34 34 (codes "b") ∷ span 65 65 (codes "b") ∷ []) (Becomes (codes "ifdef A\nF ==\\\n b a\nelse\nF\\\n:= \\\r\n b\nendif\nc&: # c\n\tsay \"q\"\nF\\\n::= b# c\n"))) ∷  -- more-784
    (codes ".RECIPEPREFIX = >\nX =$$ a\\$\nexport A += \\\r\n $(m \\\n n)\\\n\\\n\nc:: ; true\nendif\n\t a\n\ta\n\ta # b\nc: ; true\n# n\n\ta\nx.o: ; ", ChangeValue Every (codes "X") (edits.Add (codes "$x")), NotMade 1 OpenValue) ∷  -- more-785
    (codes "F = a\\  $(s (b) a)\\\n\t\n.RECIPEPREFIX := t\n", ChangeValue Every (codes "F") (edits.Remove (codes "$(s (b) a)")), NotMade 1 OpenValue) ∷  -- more-786
    (codes "X= x=1 -g b\nifdef A\noverride += \\\n=\\\n\ta\\  # a \\\\\nelse\nF:= \\\nendif\nF\\\n:= ${c}\nifdef A\na.b::= $\\\n\ta \\\\\\\\#-g\nelse\nF+= $(t \\\n -g)#-g\nendif\nX = b\\\n $$ a#-g", ChangeValue Every (codes "F") (edits.Remove (codes "endif")), Accepted 1 1 (span 60 65 [] ∷ []) (Becomes (codes "X= x=1 -g b\nifdef A\noverride += \\\n=\\\n\ta\\  # a \\\\\nelse\nF:= \\\n\nF\\\n:= ${c}\nifdef A\na.b::= $\\\n\ta \\\\\\\\#-g\nelse\nF+= $(t \\\n -g)#-g\nendif\nX = b\\\n $$ a#-g"))) ∷  -- more-796
    (codes "a.b :=-g#\r\nc %.o: a\r\nX ?= -g\r\n\t\\\r\n\r\n\tb", ChangeValue Every (codes "a.b") (edits.Remove (codes "-g")), Accepted 1 1 (span 6 8 [] ∷ []) (Becomes (codes "a.b :=#\r\nc %.o: a\r\nX ?= -g\r\n\t\\\r\n\r\n\tb"))) ∷  -- more-801
    (codes "X =  \n\\\n#\\\\\\\n\n", ChangeValue Every (codes "X") (edits.Append []), NotMade 1 (BadArgument field.Value)) ∷  -- more-808
    (codes " \\\n \\\n :a.b:=\\ 1 \nifdef A\na.b!=  \nelse\nF\\\n= \nendif\nd: a\n\t\n", ChangeValue Every (codes "F") (edits.Add (codes "-g")), Accepted 1 1 (span 44 44 (codes "-g") ∷ []) (Becomes (codes " \\\n \\\n :a.b:=\\ 1 \nifdef A\na.b!=  \nelse\nF\\\n= -g\nendif\nd: a\n\t\n"))) ∷  -- more-816
    (codes "c c: a\n\trm -f x\n\ta # b\n\ty\r\nc: ; true\n\ttrue\n\tx \\ y\noverride::=\\\nb\nF= a b \\\n \\\n -g ;\noverride\\\n::= a\\\n |\\\na ; ", ChangeValue Every (codes "F") (edits.Set (codes "$ b")), Accepted 1 1 (span 68 82 (codes "$ b") ∷ []) (Becomes (codes "c c: a\n\trm -f x\n\ta # b\n\ty\r\nc: ; true\n\ttrue\n\tx \\ y\noverride::=\\\nb\nF= $ b\noverride\\\n::= a\\\n |\\\na ; "))) ∷  -- more-820
    (codes "c: ; true\n>x \\ y\n\n>t\n>true\n", ChangeValue Every (codes "F") (edits.Append (codes "-g")), NotMade 0 NoSuch) ∷  -- more-823
    (codes "F = -O2 \\\r\n -g $x -g\r\nF\\\r\n::=-O2 \\#\\\r\n\tb#\r\nc: # c\r\n\ttrue \\\r\n\ttrue\r\n\t\r\n\ta # b\r\n", ChangeValue Every (codes "F") (edits.Remove (codes "b")), Accepted 1 1 (span 35 40 [] ∷ []) (Becomes (codes "F = -O2 \\\r\n -g $x -g\r\nF\\\r\n::=-O2 \\##\r\nc: # c\r\n\ttrue \\\r\n\ttrue\r\n\t\r\n\ta # b\r\n"))) ∷  -- more-824
    (codes "a.b = -g \\\n    b $\\# a \\\\\nX ?= ;\\\n b -O2\\\n-g b\n", ChangeValue Every (codes "X") (edits.Set (codes "a")), Accepted 1 1 (span 31 46 (codes "a") ∷ []) (Becomes (codes "a.b = -g \\\n    b $\\# a \\\\\nX ?= a\n"))) ∷  -- more-827
    (codes "c: ; true\n\tifdef Q\n # n\nc:\n\t# n\n\trm -rf x\noverride +=|#\n", ChangeValue Every (codes "override") (edits.Append (codes "-O2")), Accepted 1 1 (span 54 54 (codes " -O2") ∷ []) (Becomes (codes "c: ; true\n\tifdef Q\n # n\nc:\n\t# n\n\trm -rf x\noverride +=| -O2#\n"))) ∷  -- more-838
    (codes "F ?= -g -O2 # c\nF := ; |#\nF\\\n= $ a\\\n $x\n", ChangeValue Every (codes "F") (edits.Append (codes "$(t -g) a\\ b")), Accepted 3 3 (span 11 11 (codes " $(t -g) a\\ b") ∷ span 24 24 (codes " $(t -g) a\\ b") ∷ span 39 39 (codes " $(t -g) a\\ b") ∷ []) (Becomes (codes "F ?= -g -O2 $(t -g) a\\ b # c\nF := ; | $(t -g) a\\ b#\nF\\\n= $ a\\\n $x $(t -g) a\\ b\n"))) ∷  -- more-840
    []

answers_4 : map (λ row. account row.0 row.1) rows_4 ≡ map (λ row. row.2) rows_4
answers_4 = refl

abbrev rows_5 : List (List ℕ × Edit × Account)
rows_5 =
    (codes "A ?=$(m \\\n n) a\\:b \tfoo \t#\\\\\nF ::= = -g \n", ChangeValue Every (codes "F") (edits.Append (codes "a -O2")), Accepted 1 1 (span 39 39 (codes " a -O2") ∷ []) (Becomes (codes "A ?=$(m \\\n n) a\\:b \tfoo \t#\\\\\nF ::= = -g a -O2 \n"))) ∷  -- more-842
    (codes "override F+= a x=1 $$\n", ChangeValue Every (codes "\\#x") (edits.Remove (codes "a:b")), NotMade 0 (BadArgument field.Name)) ∷  -- more-845
    (codes "CC\t!= \\\n\t\nx.o: a | b\n>\ttrue\n>rm -rf x\n.RECIPEPREFIX = >", ChangeValue Every (codes "CC") (edits.Add (codes "b")), Accepted 1 1 (span 9 9 (codes "b") ∷ []) (Becomes (codes "CC\t!= \\\n\tb\nx.o: a | b\n>\ttrue\n>rm -rf x\n.RECIPEPREFIX = >"))) ∷  -- more-848
    (codes "F ?= ; $(w \\\n a)\\\n\ta# a \\\\\n#c \\\n d\nF ?= -g  ${c}#-g\n", ChangeValue Every (codes "F") (edits.Add (codes "-O2")), Accepted 2 2 (span 20 20 (codes " -O2") ∷ span 48 48 (codes " -O2") ∷ []) (Becomes (codes "F ?= ; $(w \\\n a)\\\n\ta -O2# a \\\\\n#c \\\n d\nF ?= -g  ${c} -O2#-g\n"))) ∷  -- more-849
    (codes "c&: # c\r\n\tifdef Q\r\nF\\\r\n=\\\r\n\t-g \\#\ta:b\r\nc: ; true\r\n>a\r\nifeq (a,b)", ChangeValue Every (codes "F") (edits.Append (codes "a $x")), Accepted 1 1 (span 37 37 (codes " a $x") ∷ []) (Becomes (codes "c&: # c\r\n\tifdef Q\r\nF\\\r\n=\\\r\n\t-g \\#\ta:b a $x\r\nc: ; true\r\n>a\r\nifeq (a,b)"))) ∷  -- more-855
    (codes "c&: # c\n\ta\\\\\n\trm -rf x\nF = b\\\n\t-g#-g\nc: ; true\n\ta\\\n b\noverride F = a:b\\\n-g\ta -g a\n", ChangeValue Every (codes "F") (edits.Add (codes "-g")), NotMade 0 Already) ∷  -- more-856
    (codes "F := \nF !=  ", ChangeValue Every (codes "F") (edits.Add (codes "$\\x")), Accepted 2 2 (span 5 5 (codes "$\\x") ∷ span 12 12 (codes "$\\x") ∷ []) (Becomes (codes "F := $\\x\nF !=  $\\x"))) ∷  -- more-857
    (codes "override override\\\n=\\\na\\  \\\n$(w \\\n a) |\n", ChangeValue Every (codes "F") (edits.Add (codes "$x")), NotMade 0 NoSuch) ∷  -- more-859
    (codes " \\\n\n #\\\\\\\n", ChangeValue Every (codes "F") (edits.Append (codes "= $(a b)")), NotMade 0 NoSuch) ∷  -- more-862
    (codes "override a.b!= =\\\n\\\n${c}\n\nF\\\n::= $(t \\\n -g)\\\n\t ", ChangeValue Every (codes "a.b") (edits.Set []), Accepted 1 1 (span 15 24 [] ∷ []) (Becomes (codes "override a.b!= \n\nF\\\n::= $(t \\\n -g)\\\n\t "))) ∷  -- more-864
    (codes ".RECIPEPREFIX = >\nF = a  -g\\\na:b\n #c \\\n d\n", ChangeValue Every (codes "X$ ") (edits.Append (codes "a")), NotMade 0 (BadArgument field.Name)) ∷  -- more-866
    (codes "ifdef A\nF = -O2 $(s (b) a) b# \\\n d\nelse\nX ?=x$(a  b)\nendif\nexport F = a a# a \\\\\n", ChangeValue Every (codes "F") (edits.Append []), NotMade 2 (BadArgument field.Value)) ∷  -- more-871
    (codes "X= b = $(t \\\n -g)\\\n\ta:b # a \\\\\noverride F = \\\\\\\\ -O2 \\\n \\\n a\nendef\\\n\n", ChangeValue Every (codes "X") (edits.Add (codes "|")), Accepted 1 1 (span 23 23 (codes " |") ∷ []) (Becomes (codes "X= b = $(t \\\n -g)\\\n\ta:b | # a \\\\\noverride F = \\\\\\\\ -O2 \\\n \\\n a\nendef\\\n\n"))) ∷  -- more-874
    (codes "include: # c\nF != b a\\\n a# c\n\\\n# \\\nifdef A\nX !=b\\\n $x# \\\n d\nendif\n", ChangeValue Every (codes ".RECIPEPREFIX") (edits.Set (codes "= -O2")), NotMade 0 Reserved) ∷  -- more-876
    (codes "x.o:\n># n\n>\\\n\nF += $(a b)\\\n\\\n\n", ChangeValue Every (codes "F") (edits.Remove (codes "$(a b)")), Accepted 1 1 (span 19 29 [] ∷ []) (Becomes (codes "x.o:\n># n\n>\\\n\nF += \n"))) ∷  -- more-878
    (codes "F!=a -O2 -g b\r\n #\\\\\\\n\n", ChangeValue Every (codes "F") (edits.Append []), NotMade 1 (BadArgument field.Value)) ∷  -- more-879
    (codes "c: a | b\n\t\nF = -g\\\na$  \\\\\\\\  \noverride F\\\n::= |# c", ChangeValue Every (codes "F") (edits.Remove (codes "|")), Accepted 1 1 (span 46 47 [] ∷ []) (Becomes (codes "c: a | b\n\t\nF = -g\\\na$  \\\\\\\\  \noverride F\\\n::= # c"))) ∷  -- more-881
    (codes "F = $(a b) -g \\\r\r\n $ #-g\na.b = ; = \\ b\n.RECIPEPREFIX = >\n", ChangeValue Every (codes "a.b") (edits.Add (codes "x$(a  b)")), Accepted 1 1 (span 38 38 (codes " x$(a  b)") ∷ []) (Becomes (codes "F = $(a b) -g \\\r\r\n $ #-g\na.b = ; = \\ b x$(a  b)\n.RECIPEPREFIX = >\n"))) ∷  -- more-885
    (codes "ifdef A\r\nF\\\r\n:= $# \\\r\n    $(t \\\r\n -g) $ \r\nelse\r\na.b::= \\\\\\\\# c\r\nendif\r\nc: ;\r\n\ttrue\r\na.b\\\r\n:= a\\  \\\r\n -g\\\r\n b\r\nc&: ; true\r\nF!=a:b a\r\n", ChangeValue Every (codes "F") (edits.Remove (codes "$#")), Accepted 1 1 (span 16 26 [] ∷ []) (Becomes (codes "ifdef A\r\nF\\\r\n:= $(t \\\r\n -g) $ \r\nelse\r\na.b::= \\\\\\\\# c\r\nendif\r\nc: ;\r\n\ttrue\r\na.b\\\r\n:= a\\  \\\r\n -g\\\r\n b\r\nc&: ; true\r\nF!=a:b a\r\n"))) ∷  -- more-886
    (codes "X = = $# -O2 \nF +=-O2\\\n\t-g # a \\\\\nifdef A\na.b!= -O2 \nelse\nF +=  ${v a\t$ \\\n-g #-g\nendif", ChangeValue Every (codes "a.b") (edits.Remove (codes "-O2")), Accepted 1 1 (span 48 52 [] ∷ []) (Becomes (codes "X = = $# -O2 \nF +=-O2\\\n\t-g # a \\\\\nifdef A\na.b!= \nelse\nF +=  ${v a\t$ \\\n-g #-g\nendif"))) ∷  -- more-887
    (codes "export override := =  b =\n \nexport CC:=-include2 ", ChangeValue Every (codes "CC") (edits.Append (codes "\\$x \0")), NotMade 1 (BadArgument field.Value)) ∷  -- more-889
    (codes "c&: # c\n # n\na.b = -g \\\\\t$(a b) \\\n-g b#-g\n\t\n", ChangeValue Every (codes "a.b") (edits.Add (codes "a:b")), Accepted 1 1 (span 38 38 (codes " a:b") ∷ []) (Becomes (codes "c&: # c\n # n\na.b = -g \\\\\t$(a b) \\\n-g b a:b#-g\n\t\n"))) ∷  -- more-890
    (codes ".RECIPEPREFIX = >\nX ::= \na", ChangeValue Every (codes "X") (edits.Append (codes "a:b")), Accepted 1 1 (span 24 24 (codes "a:b") ∷ []) (Becomes (codes ".RECIPEPREFIX = >\nX ::= a:b\na"))) ∷  -- more-891
    (codes "c: # c\n", ChangeValue Every (codes "\\#x") (edits.Append (codes " a")), NotMade 0 (BadArgument field.Name)) ∷  -- more-892
    (codes "ifdef A\nF = $\t=# a \\\\\nendif\noverride override !=\\\n\t-O2 = # \\\n d\nx.o&: a | b\n\t>a\n\t# n\n", ChangeValue Every (codes "F") (edits.Append (codes "b")), Accepted 1 1 (span 15 15 (codes " b") ∷ []) (Becomes (codes "ifdef A\nF = $\t= b# a \\\\\nendif\noverride override !=\\\n\t-O2 = # \\\n d\nx.o&: a | b\n\t>a\n\t# n\n"))) ∷  -- more-894
    (codes "F ::= $(w \\\r\n a) $(w \\\r\n a) a\\\r\n-g -g\r\nX\\\r\n::= $(s (b) a)  a$\\ -g\\\r\n;\r\nF = b  ;\\\r\n\t\r\n", ChangeValue Every (codes "F") (edits.Add (codes "a\\")), NotMade 2 (BadArgument field.Word)) ∷  -- more-896
    (codes ".RECIPEPREFIX = >\n.RECIPEPREFIX = >", ChangeValue Every (codes "F") (edits.Append (codes "\\\\a $x")), NotMade 0 NoSuch) ∷  -- more-897
    (codes "x.o:\n>true\noverride = | \n>b\n> a", ChangeValue Every (codes "override") (edits.Append (codes "$(w a) $(A -g)")), Accepted 1 1 (span 23 23 (codes " $(w a) $(A -g)") ∷ []) (Becomes (codes "x.o:\n>true\noverride = | $(w a) $(A -g) \n>b\n> a"))) ∷  -- more-899
    (codes "F != #-g\nF!=-g b#\n", ChangeValue Every (codes "F") (edits.Remove (codes "-g")), Accepted 1 1 (span 12 15 [] ∷ []) (Becomes (codes "F != #-g\nF!=b#\n"))) ∷  -- more-904
    (codes "X\\\n!= x=1\\\n\ta", ChangeValue Every (codes "X") (edits.Add (codes "|")), Accepted 1 1 (span 13 13 (codes " |") ∷ []) (Becomes (codes "X\\\n!= x=1\\\n\ta |"))) ∷  -- more-909
    (codes "define X =\\\n", ChangeValue Every (codes "a.b") (edits.Remove (codes "-g")), NotMade 0 NoSuch) ∷  -- more-922
    (codes "c: a\n>say \"q\"\nendif\n>>a\n>true\nF\\\n!=# \\\n d\ninclude: ; true\nF ?=a  -O2 -g $(t \\\n -g) b \n", ChangeValue Every (codes "F") (edits.Remove (codes "a")), Accepted 1 1 (span 62 65 [] ∷ []) (Becomes (codes "c: a\n>say \"q\"\nendif\n>>a\n>true\nF\\\n!=# \\\n d\ninclude: ; true\nF ?=-O2 -g $(t \\\n -g) b \n"))) ∷  -- more-923
    (codes " ", ChangeValue Every (codes "F") (edits.Append []), NotMade 0 (BadArgument field.Value)) ∷  -- more-926
    (codes "F = ; a\\\\\t= \\\n    a\\ \\\n = \noverride F != $  \nifdef A\nexport a.b = \nendif\noverride\\\n::= -O2\\\n\ta:b a\n", ChangeValue Every (codes "a.b") (edits.Remove (codes "$\\x")), NotMade 0 Absent) ∷  -- more-927
    ([], ChangeValue Every (codes "X") (edits.Add (codes "\\#")), NotMade 0 NoSuch) ∷  -- more-928
    (codes "F?= x=1 $(A -g)\\\n\\\n\nc: ; true\n\t>a\n\ta\\\n>b\nendif\nX=Ã©\\\n\t;#\nX= $\\ ", ChangeValue Every (codes "X") (edits.Add (codes "\\\\a")), Accepted 2 2 (span 55 55 (codes " \\\\a") ∷ span 62 62 (codes " \\\\a") ∷ []) (Becomes (codes "F?= x=1 $(A -g)\\\n\\\n\nc: ; true\n\t>a\n\ta\\\n>b\nendif\nX=Ã©\\\n\t; \\\\a#\nX= $\\ \\\\a "))) ∷  -- more-931
    (codes "t\\\n\t\\\r\n$(a b):: %.c  ", ChangeValue Every (codes "X") (edits.Add (codes "-g")), NotMade 0 NoSuch) ∷  -- more-932
    (codes "ifdef A\nF = ; \nelse\nexport F ::= =\nendif\nF!= a -g \nc %.o:: ;\n # n\n\t\n", ChangeValue Every (codes "F") (edits.Remove (codes "-g")), Accepted 1 1 (span 46 49 [] ∷ []) (Becomes (codes "ifdef A\nF = ; \nelse\nexport F ::= =\nendif\nF!= a \nc %.o:: ;\n # n\n\t\n"))) ∷  -- more-933
    (codes "ifdef A\nX\\\n!= ${v a -g \\\n \\\n ;\\\n\\\n-g\\\n\\\na # a \\\\\nendif\n", ChangeValue Every (codes "X") (edits.Add (codes "${v a -g ; -g a # a \\\\")), NotMade 0 (BadArgument field.Word)) ∷  -- more-936
    (codes "a.b !=b \\\r\n    b#-g\nF :=a b#-g\n", ChangeValue Every (codes "F") (edits.Append (codes "b")), Accepted 1 1 (span 27 27 (codes " b") ∷ []) (Becomes (codes "a.b !=b \\\r\n    b#-g\nF :=a b b#-g\n"))) ∷  -- more-939
    (codes "F = a\t-O2 -g\r\nF+= -O2 a:b  a \r\n", ChangeValue Every (codes "F") (edits.Add (codes "a:b")), Accepted 1 1 (span 12 12 (codes " a:b") ∷ []) (Becomes (codes "F = a\t-O2 -g a:b\r\nF+= -O2 a:b  a \r\n"))) ∷  -- more-944
    (codes "F = b\ta\\\n\\\n-O2 $(w \\\n a) x$(a  b) \\\n \\\n # \\\n d\n", ChangeValue Every (codes "F") (edits.Remove (codes "x$(a  b)")), Accepted 1 1 (span 24 33 [] ∷ []) (Becomes (codes "F = b\ta\\\n\\\n-O2 $(w \\\n a) \\\n \\\n # \\\n d\n"))) ∷  -- more-945
    (codes "F?= -O2 \\\n    ${c} a#-g", ChangeValue Every (codes "F") (edits.Add (codes "a")), NotMade 0 Already) ∷  -- more-946
    (codes "F\\\n!= -g \\\n \\\n -g  a \n", ChangeValue Every (codes "F") (edits.Remove (codes "-g")), Accepted 1 1 (span 6 15 [] ∷ span 15 19 [] ∷ []) (Becomes (codes "F\\\n!= a \n"))) ∷  -- more-948
    (codes "F =$x a:b $\\  b -g \noverride\\\n!=b \\\n    $x\n", ChangeValue Every (codes "F") (edits.Remove (codes "a:b")), Accepted 1 1 (span 5 9 [] ∷ []) (Becomes (codes "F =$x $\\  b -g \noverride\\\n!=b \\\n    $x\n"))) ∷  -- more-951
    (codes "X?= a | -g \n", ChangeValue Every (codes "X") (edits.Remove (codes "a")), Accepted 1 1 (span 4 6 [] ∷ []) (Becomes (codes "X?= | -g \n"))) ∷  -- more-952
    (codes "override = |\t-g b\\\r\n\\\r\n$(t \\\r\n -g) \\\r\n -g\\\r\n \r\ninclude&: ;\r\n \r\n\trm -rf x\r\n\trm -f x\r\n\ta # b", ChangeValue Every (codes "F") (edits.Append (codes "b $\\x")), NotMade 0 NoSuch) ∷  -- more-956
    (codes "c d:\r\n>a # b\r\n>true\r\n>", ChangeValue Every (codes "$(X)") (edits.Add (codes "\\#")), NotMade 0 (BadArgument field.Name)) ∷  -- more-958
    (codes "ifdef A\nF ?=-O2 -O2 \\\n \\\n $x :a\\\\ \nelse\nF\\\n?=\r\n a\\\n$x#-g\nendif\nF = \n", ChangeValue Every (codes "F") (edits.Remove (codes "$x")), Accepted 1 1 (span 19 28 [] ∷ []) (Becomes (codes "ifdef A\nF ?=-O2 -O2 :a\\\\ \nelse\nF\\\n?=\r\n a\\\n$x#-g\nendif\nF = \n"))) ∷  -- more-962
    (codes "F = $\\\n $$  =# \\\n d\nF= a -g $(a\tb)\nF = = -O2#\n", ChangeValue Every (codes "F") (edits.Set (codes "a:b -g")), Accepted 3 3 (span 4 13 (codes "a:b -g") ∷ span 23 34 (codes "a:b -g") ∷ span 39 44 (codes "a:b -g") ∷ []) (Becomes (codes "F = a:b -g# \\\n d\nF= a:b -g\nF = a:b -g#\n"))) ∷  -- more-963
    []

answers_5 : map (λ row. account row.0 row.1) rows_5 ≡ map (λ row. row.2) rows_5
answers_5 = refl

abbrev rows_6 : List (List ℕ × Edit × Account)
rows_6 =
    (codes "override \tt1 = \t \n", ChangeValue Every (codes "t1") (edits.Append (codes "|")), Accepted 1 1 (span 17 17 (codes "|") ∷ []) (Becomes (codes "override \tt1 = \t |\n"))) ∷  -- more-966
    (codes "\t\r\na.b::=  b -g\\\r\n\\\r\nb#\r\nF ?=  x=1 | -g \\\r\n ${c}#\r\n", ChangeValue Every (codes "F") (edits.Add (codes "|")), NotMade 0 Already) ∷  -- more-969
    (codes "c: # c\n\tb\n\tx \\ y\n\ttrue\nx.o: ; true\n\tifdef Q\n\t\\\n\n", ChangeValue Every (codes "override") (edits.Remove (codes "a#")), NotMade 0 (BadArgument field.Word)) ∷  -- more-972
    (codes "F = \r\nifdef A\r\na.b = b\\\r\n#$\r\nelse\r\nFendef\r\n= b a#-g\r\nendif\r\n$(a b): endef!= $x", ChangeValue Every (codes "F") (edits.Add (codes "a$ b")), Accepted 1 1 (span 4 4 (codes "a$ b") ∷ []) (Becomes (codes "F = a$ b\r\nifdef A\r\na.b = b\\\r\n#$\r\nelse\r\nFendef\r\n= b a#-g\r\nendif\r\n$(a b): endef!= $x"))) ∷  -- more-973
    (codes ".RECIPEPREFIX = >\nifdef A\nF== b  -g \\\r\n a $(a\tb)#\nelse\nF ?= -g\t;#-g\nendif\nd d: a | b\n\ta \\\n\tb\nF?= a:b\nc c:: # c\n\trm -rf x\n\tsay \"q\"\nifeq (a,b)\n", ChangeValue Every (codes "F") (edits.Add (codes "\\\\a")), Accepted 3 3 (span 48 48 (codes " \\\\a") ∷ span 64 64 (codes " \\\\a") ∷ span 100 100 (codes " \\\\a") ∷ []) (Becomes (codes ".RECIPEPREFIX = >\nifdef A\nF== b  -g \\\r\n a $(a\tb) \\\\a#\nelse\nF ?= -g\t; \\\\a#-g\nendif\nd d: a | b\n\ta \\\n\tb\nF?= a:b \\\\a\nc c:: # c\n\trm -rf x\n\tsay \"q\"\nifeq (a,b)\n"))) ∷  -- more-977
    (codes "F:= -O2# c\n", ChangeValue Every (codes "F") (edits.Remove (codes "-O2")), Accepted 1 1 (span 4 7 [] ∷ []) (Becomes (codes "F:= # c\n"))) ∷  -- more-979
    (codes ".RECIPEPREFIX = >\r\nF = $# \\\n-g \\## \\\n d\n%.o: ;\n\tifdef Q\nF\\\n:= b\\\n\t$(A -g)\\\n\t$x # c\nF = $(w \\\n a)# c\n", ChangeValue Every (codes "F") (edits.Remove (codes "$#")), Accepted 1 1 (span 23 28 [] ∷ []) (Becomes (codes ".RECIPEPREFIX = >\r\nF = -g \\## \\\n d\n%.o: ;\n\tifdef Q\nF\\\n:= b\\\n\t$(A -g)\\\n\t$x # c\nF = $(w \\\n a)# c\n"))) ∷  -- more-980
    (codes "export F\\\n= $(w \\\n a)\n", ChangeValue Every (codes "F") (edits.Set (codes "-g")), Accepted 1 1 (span 12 21 (codes "-g") ∷ []) (Becomes (codes "export F\\\n= -g\n"))) ∷  -- more-981
    (codes "X+= \\\n    $(w \\\n a) =# c\n", ChangeValue Every (codes "X") (edits.Add (codes "b")), Accepted 1 1 (span 21 21 (codes " b") ∷ []) (Becomes (codes "X+= \\\n    $(w \\\n a) = b# c\n"))) ∷  -- more-982
    (codes ".RECIPEPREFIX = >\nF =b a:b# a \\\\\nc: # c\n\tb\n\ty\r\n\tt\nc: # c\n>\\\n\n\n# n\n>a\\\n b", ChangeValue Every (codes "F") (edits.Remove (codes "b")), Accepted 1 1 (span 21 23 [] ∷ []) (Becomes (codes ".RECIPEPREFIX = >\nF =a:b# a \\\\\nc: # c\n\tb\n\ty\r\n\tt\nc: # c\n>\\\n\n\n# n\n>a\\\n b"))) ∷  -- more-983
    (codes "ifdef A\r\na.b\\\r\n= -g\\\r\n\ta$   $# \\\r\n \\#\t-g#-g\r\nendif\r\nifdef A\r\noverride\\\r\n!= $\\\r\n \r\nelse\r\noverride F =; a$\\ $(s (b) a) \\\r\n \\\r\n ;\r\nendif\r\nF := # \\\r\n d", ChangeValue Every (codes "F") (edits.Remove (codes "a$\\")), NotMade 1 (BadArgument field.Word)) ∷  -- more-989
    (codes "ifdef A\nX= x=1\nelse\nX\\\n:= b\\\na\\\n \nendif\nc: a\n> a\n>a \\\n\tb\n> a\n", ChangeValue Every (codes "X") (edits.Add (codes "a")), Accepted 1 1 (span 14 14 (codes " a") ∷ []) (Becomes (codes "ifdef A\nX= x=1 a\nelse\nX\\\n:= b\\\na\\\n \nendif\nc: a\n> a\n>a \\\n\tb\n> a\n"))) ∷  -- more-991
    (codes "F ::=$ \nifdef A\nF= -O2 x=1 b\nelse\nF+= \\\n \\\n a:b -O2 -O2\\\n\\\na \nendif", ChangeValue Every (codes "F") (edits.Remove (codes "x=1")), Accepted 1 1 (span 22 26 [] ∷ []) (Becomes (codes "F ::=$ \nifdef A\nF= -O2 b\nelse\nF+= \\\n \\\n a:b -O2 -O2\\\n\\\na \nendif"))) ∷  -- more-993
    (codes "F\\\r\n= b $x \\\r\n", ChangeValue Every (codes "F") (edits.Set (codes "$(t -g)")), Accepted 1 1 (span 6 12 (codes "$(t -g)") ∷ []) (Becomes (codes "F\\\r\n= $(t -g)\r\n"))) ∷  -- more-994
    (codes "override ?= $(A -g) =\\\r\n\\\r\na ", ChangeValue Every (codes "override") (edits.Append (codes "b a$ b")), Accepted 1 1 (span 28 28 (codes " b a$ b") ∷ []) (Becomes (codes "override ?= $(A -g) =\\\r\n\\\r\na b a$ b "))) ∷  -- more-998
    (codes "c c: a\n\trm -f x\n\t\nd:: # c\n\trm -f x\n\ta\\\\\n\tsay \"q\"\nexport X\\\n= -g\\\n\t$$\n", ChangeValue Every (codes "X") (edits.Remove (codes "-g")), Accepted 1 1 (span 61 66 [] ∷ []) (Becomes (codes "c c: a\n\trm -f x\n\t\nd:: # c\n\trm -f x\n\ta\\\\\n\tsay \"q\"\nexport X\\\n= $$\n"))) ∷  -- more-999
    (codes "override F = $x#\\", ChangeValue Every (codes "X") (edits.Add (codes "x$(a  b)")), NotMade 0 NoSuch) ∷  -- more-1000
    (codes "F?= b a\\\n\t\\ b# a \\\\\nF\\\n!= ; b\nd&:\n", ChangeValue Every (codes "F") (edits.Add (codes "\\ b")), Accepted 1 1 (span 29 29 (codes " \\ b") ∷ []) (Becomes (codes "F?= b a\\\n\t\\ b# a \\\\\nF\\\n!= ; b \\ b\nd&:\n"))) ∷  -- more-1001
    (codes "F\\\n= -g -O2 \\\r\n b \nF\\\n= \ninclude:: ; true\n\t\n\ttrue\n\ttrue\nc:: a\n\tb\n\ta # b\n\t# n\n&: A\\\r\n?=  ", ChangeValue Every (codes "F") (edits.Remove (codes "-O2")), Accepted 1 1 (span 7 11 [] ∷ []) (Becomes (codes "F\\\n= -g \\\r\n b \nF\\\n= \ninclude:: ; true\n\t\n\ttrue\n\ttrue\nc:: a\n\tb\n\ta # b\n\t# n\n&: A\\\r\n?=  "))) ∷  -- more-1002
    (codes "-include2::: $  a&b\tc \\\n\n", ChangeValue Every (codes "a.b") (edits.Set (codes "-O2")), NotMade 0 NoSuch) ∷  -- more-1003
    (codes "X\\\n= -g a\\  ; \\\n    -g\\\n\\\n=# \\\n d\nF:=\n", ChangeValue Every (codes "F") (edits.Remove (codes "b")), NotMade 0 Absent) ∷  -- more-1004
    (codes "override := = b\\\n\tb \n#X{\n$=\\\n\r\n\n{define\nF +=b b -g -g \n", ChangeValue Every (codes "override") (edits.Remove (codes "b")), Accepted 1 1 (span 13 15 [] ∷ span 15 19 [] ∷ []) (Becomes (codes "override := = \n#X{\n$=\\\n\r\n\n{define\nF +=b b -g -g \n"))) ∷  -- more-1005
    (codes "ifdef A\r\nF = \\\r\n $(a\tb)\r\nelse\r\nF\\\r\n!= $(a b) -g\r\nendif\r\nifdef += \\\r\n# \\\r\n", ChangeValue Every (codes "F") (edits.Set (codes "a$ b")), Accepted 2 2 (span 17 23 (codes "a$ b") ∷ span 38 47 (codes "a$ b") ∷ []) (Becomes (codes "ifdef A\r\nF = \\\r\n a$ b\r\nelse\r\nF\\\r\n!= a$ b\r\nendif\r\nifdef += \\\r\n# \\\r\n"))) ∷  -- more-1006
    (codes "ifdef A\r\nF::= x=1  a \\\r\n    -g \r\nendif\r\n", ChangeValue Every (codes "F") (edits.Append (codes "-O2 b")), Accepted 1 1 (span 30 30 (codes " -O2 b") ∷ []) (Becomes (codes "ifdef A\r\nF::= x=1  a \\\r\n    -g -O2 b \r\nendif\r\n"))) ∷  -- more-1007
    (codes "ifdef A\r\noverride F =\\\r\n\\\r\na \\\r\n \\\r\n a:b# \\\r\n d\r\nelse\r\nF ::= $x -g a \\\\\\\\ # a \\\\\r\nendif", ChangeValue Every (codes "F") (edits.Set (codes "$\\x")), Accepted 2 2 (span 27 40 (codes "$\\x") ∷ span 61 73 (codes "$\\x") ∷ []) (Becomes (codes "ifdef A\r\noverride F =\\\r\n\\\r\n$\\x# \\\r\n d\r\nelse\r\nF ::= $\\x # a \\\\\r\nendif"))) ∷  -- more-1008
    (codes "c: # c\n\t# n\nifdef A\na.b!= b a:b\nelse\nF\\\n=$x\\\na\nendif\na.b := a -g b -g\\\nx=1\nX\\\n:= -g \\\nÃ©\nF::=\\\\\\\\ ; # \\\n d\n", ChangeValue Every (codes "a.b") (edits.Append (codes "x=1 |")), Accepted 2 2 (span 31 31 (codes " x=1 |") ∷ span 74 74 (codes " x=1 |") ∷ []) (Becomes (codes "c: # c\n\t# n\nifdef A\na.b!= b a:b x=1 |\nelse\nF\\\n=$x\\\na\nendif\na.b := a -g b -g\\\nx=1 x=1 |\nX\\\n:= -g \\\nÃ©\nF::=\\\\\\\\ ; # \\\n d\n"))) ∷  -- more-1010
    (codes "ifdef A\nF ?= \\\n    Ã© ; b \\\n\nelse\nF\\\n?=b -O2\nendif\nc:\n>say \"q\"\n>a\nX = $$\tb b \nt1 :::= \noverride= b  -g \\\na -g\t\n", ChangeValue Every (codes "F") (edits.Append []), NotMade 2 (BadArgument field.Value)) ∷  -- more-1014
    (codes "a.b = =\ta \nF\\\n+=-g $(s (b) a)\\\n\\\n=# a \\\\", ChangeValue Every (codes "a.b") (edits.Remove (codes "=")), Accepted 1 1 (span 6 8 [] ∷ []) (Becomes (codes "a.b = a \nF\\\n+=-g $(s (b) a)\\\n\\\n=# a \\\\"))) ∷  -- more-1017
    (codes "F := ;  ; \\\\ # a \\\\\n", ChangeValue Every (codes "F") (edits.Append (codes "$\\x")), Accepted 1 1 (span 12 12 (codes " $\\x") ∷ []) (Becomes (codes "F := ;  ; \\\\ $\\x # a \\\\\n"))) ∷  -- more-1019
    (codes "c&: ; true\noverride F ::= -g", ChangeValue Every (codes "F") (edits.Set (codes "b")), Accepted 1 1 (span 26 28 (codes "b") ∷ []) (Becomes (codes "c&: ; true\noverride F ::= b"))) ∷  -- more-1021
    (codes "ifdef A\nX = -O2# \\\n d\nendif\n", ChangeValue Every (codes "X") (edits.Set (codes "x$(a  b) |")), Accepted 1 1 (span 12 15 (codes "x$(a  b) |") ∷ []) (Becomes (codes "ifdef A\nX = x$(a  b) |# \\\n d\nendif\n"))) ∷  -- more-1023
    (codes "F\\\n::= ${c} | Ã©\\\n\\\n$\\ $(w \\\n a)\na.b\\\n= ; -g \\\n    a \\\n    a:b\\\n\t-O2\n\t\nd: a | b\n>>a\n>a # b\n", ChangeValue Every (codes "a.b") (edits.Append (codes "=")), Accepted 1 1 (span 68 68 (codes " =") ∷ []) (Becomes (codes "F\\\n::= ${c} | Ã©\\\n\\\n$\\ $(w \\\n a)\na.b\\\n= ; -g \\\n    a \\\n    a:b\\\n\t-O2 =\n\t\nd: a | b\n>>a\n>a # b\n"))) ∷  -- more-1026
    (codes "ifdef A\nF += a\\  x=1 $(w \\\n a)#\nelse\nX= x=1\nendif\nX\\\n= \\\n \\\n ; a \\\r\n b $\\\\\n\ta$\\ # a \\\\\nF\\\n=  \\\n \\\n #\nc: a | b\n\ta\\\n b\n \nifdef A\n\t>a\nF\\\n!=;# c\n", ChangeValue Every (codes "F") (edits.Remove (codes "a\\ ")), NotMade 1 (BadArgument field.Word)) ∷  -- more-1028
    (codes "X+=a -g \\\n    -O2\\\n $\\\n#-g\ninclude: ; ", ChangeValue Every (codes "X") (edits.Append (codes "${c}")), Accepted 1 1 (span 23 23 (codes " ${c}") ∷ []) (Becomes (codes "X+=a -g \\\n    -O2\\\n $\\\n ${c}#-g\ninclude: ; "))) ∷  -- more-1029
    (codes ".RECIPEPREFIX = >\nifdef A\nF = ; b\\\nb\nelse\na.b = a -g\nendif\nx.o c::\n\ttrue\n\ttrue \\\r\n\ttrue\nifdef A\nF += a b\nendif\n.RECIPEPREFIX = >\nF := ;  a:b \\\n    $(s (b) a) \\# \\\n    x$(a  b) # \\\n d\n", ChangeValue Every (codes "F") (edits.Append (codes "a\\   t")), Accepted 3 3 (span 36 36 (codes " a\\   t") ∷ span 104 104 (codes " a\\   t") ∷ span 175 175 (codes " a\\   t") ∷ []) (Becomes (codes ".RECIPEPREFIX = >\nifdef A\nF = ; b\\\nb a\\   t\nelse\na.b = a -g\nendif\nx.o c::\n\ttrue\n\ttrue \\\r\n\ttrue\nifdef A\nF += a b a\\   t\nendif\n.RECIPEPREFIX = >\nF := ;  a:b \\\n    $(s (b) a) \\# \\\n    x$(a  b) a\\   t # \\\n d\n"))) ∷  -- more-1030
    (codes "X := \\\na:b b\\\n\\\n-O2 \n%.o: ;\n\ta\n\t# n\n\ta\\\\\nifdef A\nc:\n\t>a\n\ttrue", ChangeValue Every (codes "X") (edits.Set []), Accepted 1 1 (span 7 20 [] ∷ []) (Becomes (codes "X := \\\n\n%.o: ;\n\ta\n\t# n\n\ta\\\\\nifdef A\nc:\n\t>a\n\ttrue"))) ∷  -- more-1033
    (codes "F ?= a -O2 x=1# c\nc: a | b\n\ta # b\nelse\n", ChangeValue Every (codes "F") (edits.Set (codes "-g")), Accepted 1 1 (span 5 14 (codes "-g") ∷ []) (Becomes (codes "F ?= -g# c\nc: a | b\n\ta # b\nelse\n"))) ∷  -- more-1038
    (codes "%.o:: # c\n\n.RECIPEPREFIX = >\n", ChangeValue Every (codes "F") (edits.Append (codes "\\# ;")), NotMade 0 NoSuch) ∷  -- more-1039
    (codes "X?= \\\n \n", ChangeValue Every (codes "X") (edits.Set (codes "a")), Accepted 1 1 (span 7 7 (codes "a") ∷ []) (Becomes (codes "X?= \\\n a\n"))) ∷  -- more-1043
    (codes "ifdef A\nexport override\\\n?=\\\n\\\na:b \\\n-O2 b a\\\n\\\n=#\nelse\noverride ::=\nendif\n\t#\\\\\\\n\n", ChangeValue Every (codes "override") (edits.Remove (codes "-O2")), Accepted 1 1 (span 34 40 [] ∷ []) (Becomes (codes "ifdef A\nexport override\\\n?=\\\n\\\na:b b a\\\n\\\n=#\nelse\noverride ::=\nendif\n\t#\\\\\\\n\n"))) ∷  -- more-1044
    (codes "c: a\n\t>a\nc: a | b\n\tt\n\t a\n\tt\nX = -g \n", ChangeValue Every (codes "X") (edits.Append (codes "a  -g")), Accepted 1 1 (span 34 34 (codes " a  -g") ∷ []) (Becomes (codes "c: a\n\t>a\nc: a | b\n\tt\n\t a\n\tt\nX = -g a  -g \n"))) ∷  -- more-1045
    (codes "F:=\tb b ", ChangeValue Every (codes "F") (edits.Set []), Accepted 1 1 (span 4 8 [] ∷ []) (Becomes (codes "F:=\t"))) ∷  -- more-1046
    (codes ".RECIPEPREFIX =\r\n )>F = \n", ChangeValue Every (codes ")>F") (edits.Remove (codes "$x")), NotMade 0 (BadArgument field.Name)) ∷  -- more-1047
    (codes "X::= -O2 \\\n \\\n $# $(t \\\n -g)\nifdef A\nexport override= \\ b \nelse\nF = b \nendif\nifdef A\nF=\nendif\n \\\n", ChangeValue Every (codes "F") (edits.Set (codes "\\\\a a:b")), Accepted 2 2 (span 68 69 (codes "\\\\a a:b") ∷ span 87 87 (codes "\\\\a a:b") ∷ []) (Becomes (codes "X::= -O2 \\\n \\\n $# $(t \\\n -g)\nifdef A\nexport override= \\ b \nelse\nF = \\\\a a:b \nendif\nifdef A\nF=\\\\a a:b\nendif\n \\\n"))) ∷  -- more-1048
    (codes "ifdef A\nF\\\n=a x=1 $(s (b) a) a#\nelse\nF= #-g\nendif\nd: a\nX ::= ; ${v a \\ # a \\\\\n", ChangeValue Every (codes "F") (edits.Set []), Accepted 2 2 (span 12 30 [] ∷ span 40 40 [] ∷ []) (Becomes (codes "ifdef A\nF\\\n=#\nelse\nF= #-g\nendif\nd: a\nX ::= ; ${v a \\ # a \\\\\n"))) ∷  -- more-1049
    (codes "override =\\\n\\\nb \\\n-O2 \nX\\\n?= -O2\\\n\n", ChangeValue Every (codes "X") (edits.Set []), Accepted 1 1 (span 29 34 [] ∷ []) (Becomes (codes "override =\\\n\\\nb \\\n-O2 \nX\\\n?= \n"))) ∷  -- more-1050
    (codes "X!= \\\nb =\nX!= -g# c\nF:= a\\\\ a \\\r\n -g a\nF ::= -g a $(s (b) a) -O2\na.b ?=  \n", ChangeValue Every (codes "F") (edits.Append (codes "$\\x")), Accepted 2 2 (span 38 38 (codes " $\\x") ∷ span 64 64 (codes " $\\x") ∷ []) (Becomes (codes "X!= \\\nb =\nX!= -g# c\nF:= a\\\\ a \\\r\n -g a $\\x\nF ::= -g a $(s (b) a) -O2 $\\x\na.b ?=  \n"))) ∷  -- more-1051
    (codes "%.o: # c\n\trm -f x\n\t a\nF\\\n::= \\# \\\r\n a:b#\nF = $(s (b) a)\\\n\t| | $x -g#\nc:\n\t>a\n\t\\\n\n", ChangeValue Every (codes "F") (edits.Add (codes "|")), Accepted 1 1 (span 39 39 (codes " |") ∷ []) (Becomes (codes "%.o: # c\n\trm -f x\n\t a\nF\\\n::= \\# \\\r\n a:b |#\nF = $(s (b) a)\\\n\t| | $x -g#\nc:\n\t>a\n\t\\\n\n"))) ∷  -- more-1053
    (codes "c:: # c\nifdef A\n\t a\n\ta \\\n\tb\nifdef A\nF = b\nendif\n\t# \r\n", ChangeValue Every (codes "F") (edits.Add (codes "$(a b)")), Accepted 1 1 (span 41 41 (codes " $(a b)") ∷ []) (Becomes (codes "c:: # c\nifdef A\n\t a\n\ta \\\n\tb\nifdef A\nF = b $(a b)\nendif\n\t# \r\n"))) ∷  -- more-1056
    (codes "X = \\\n \\\n -g\\\n x=1 $\\\n\nF :=$(a\tb) #\nifdef A\nF = |\\\n|\\\n-O2 a =#\nendif\n", ChangeValue Every (codes "F") (edits.Remove (codes "|")), Accepted 1 1 (span 48 51 [] ∷ span 51 54 [] ∷ []) (Becomes (codes "X = \\\n \\\n -g\\\n x=1 $\\\n\nF :=$(a\tb) #\nifdef A\nF = -O2 a =#\nendif\n"))) ∷  -- more-1057
    []

answers_6 : map (λ row. account row.0 row.1) rows_6 ≡ map (λ row. row.2) rows_6
answers_6 = refl

abbrev rows_7 : List (List ℕ × Edit × Account)
rows_7 =
    (codes "F\\\n= -g a -g \\\n    ; \\\n \\\n =# \\\n d\nF ::= -g\\\n\\\n-g\n", ChangeValue Every (codes "F") (edits.Add (codes "-g")), NotMade 0 Already) ∷  -- more-1058
    (codes "a.b?= -g\nF\\\n= -g\tÃ© \\\n\nF\\\n::= $(a\tb)\\\n b\na.b::=\t-O2\tb \\\n    $$\nF = \\\n    -O2 | x=1\n", ChangeValue Every (codes "F") (edits.Set (codes "$(A -g)")), Accepted 3 3 (span 14 19 (codes "$(A -g)") ∷ span 30 40 (codes "$(A -g)") ∷ span 73 82 (codes "$(A -g)") ∷ []) (Becomes (codes "a.b?= -g\nF\\\n= $(A -g) \\\n\nF\\\n::= $(A -g)\na.b::=\t-O2\tb \\\n    $$\nF = \\\n    $(A -g)\n"))) ∷  -- more-1061
    (codes ">q \t+=  \r\nF\\\n= a $x # c\n", ChangeValue Every (codes ">q") (edits.Set (codes "a\\ b a")), NotMade 1 (BadArgument field.Name)) ∷  -- more-1063
    (codes "c: ;\n\t>a\n\tx \\ y\nc: ;\n\ta # b\n\ta # b\nF\\\n= a\\\n\\\nb# \\\n d\ninclude: ; true\n\ta\n\tb\n\tt\n\ta", ChangeValue Every (codes "F") (edits.Append (codes "$(A -g)")), Accepted 1 1 (span 46 46 (codes " $(A -g)") ∷ []) (Becomes (codes "c: ;\n\t>a\n\tx \\ y\nc: ;\n\ta # b\n\ta # b\nF\\\n= a\\\n\\\nb $(A -g)# \\\n d\ninclude: ; true\n\ta\n\tb\n\tt\n\ta"))) ∷  -- more-1064
    (codes "c: # c\n\ta # b\n\ta\n\tsay \"q\"\n\trm -f x\nifdef A\nexport a.b = b\\\n\\\nx$(a  b) $x $(a b)\nelse\nexport F += $(A -g) a\nendif\na.b = $(w \\\n a)\nc:\n\ta # b\n\ttrue\n\ttrue\nX ?= x=1 \\\n \\\n -O2\\\n", ChangeValue Every (codes "F") (edits.Remove (codes "a")), Accepted 1 1 (span 104 106 [] ∷ []) (Becomes (codes "c: # c\n\ta # b\n\ta\n\tsay \"q\"\n\trm -f x\nifdef A\nexport a.b = b\\\n\\\nx$(a  b) $x $(a b)\nelse\nexport F += $(A -g)\nendif\na.b = $(w \\\n a)\nc:\n\ta # b\n\ttrue\n\ttrue\nX ?= x=1 \\\n \\\n -O2\\\n"))) ∷  -- more-1066
    (codes "ifdef A\nF != -g  $x \\\n    |\\\n \nendif\na.b ::=a\\$\nF := $(a\tb)\\\n -g \\\r\n b\n", ChangeValue Every (codes "F") (edits.Add (codes "|")), Accepted 1 1 (span 70 70 (codes " |") ∷ []) (Becomes (codes "ifdef A\nF != -g  $x \\\n    |\\\n \nendif\na.b ::=a\\$\nF := $(a\tb)\\\n -g \\\r\n b |\n"))) ∷  -- more-1067
    (codes "F=a$\\ -O2 -g \nF = \n", ChangeValue Every (codes "F") (edits.Set (codes "-O2")), Accepted 2 2 (span 2 12 (codes "-O2") ∷ span 18 18 (codes "-O2") ∷ []) (Becomes (codes "F=-O2 \nF = -O2\n"))) ∷  -- more-1068
    (codes "F += ; b\\\n\ta:b\nF = b\\\n b b -g \\\n$(w \\\n a)\n", ChangeValue Every (codes "F") (edits.Remove (codes "-g")), Accepted 1 1 (span 26 29 [] ∷ []) (Becomes (codes "F += ; b\\\n\ta:b\nF = b\\\n b b \\\n$(w \\\n a)\n"))) ∷  -- more-1069
    (codes "F :=;# \\\r\n d\r\noverride != -g\\\r\n\t-g $(A -g) \r\nF\\\r\n= $(u #-g\r\n", ChangeValue Every (codes "F") (edits.Add (codes "a\\ b")), NotMade 2 OpenValue) ∷  -- more-1070
    (codes "F\\\r\n= \r\n\r\n", ChangeValue Every (codes "F") (edits.Remove (codes "$x")), NotMade 0 Absent) ∷  -- more-1073
    (codes "X\\\n= -g x=1\\\na:b\n", ChangeValue Every (codes "X") (edits.Remove (codes "x=1")), Accepted 1 1 (span 7 11 [] ∷ []) (Becomes (codes "X\\\n= -g\\\na:b\n"))) ∷  -- more-1074
    (codes "F = b = $\\\r\n b \\\r\n -g \r\na.b=  $(a b)\\\r\n ;\r\n", ChangeValue Every (codes "a.b") (edits.Remove (codes ";")), Accepted 1 1 (span 36 41 [] ∷ []) (Becomes (codes "F = b = $\\\r\n b \\\r\n -g \r\na.b=  $(a b)\r\n"))) ∷  -- more-1075
    (codes "c&: a | b\n>\\\n\n>\n>\n>a\\\\\nc:\n\ta \\\n\tb\n\tb\nF += $\\\\\n\tb \nifdef A\nF\\\n::= \\\nb \nelse\nF ?==  a a:b \nendif\n", ChangeValue Every (codes "F") (edits.Remove (codes "a")), Accepted 1 1 (span 80 83 [] ∷ []) (Becomes (codes "c&: a | b\n>\\\n\n>\n>\n>a\\\\\nc:\n\ta \\\n\tb\n\tb\nF += $\\\\\n\tb \nifdef A\nF\\\n::= \\\nb \nelse\nF ?== a:b \nendif\n"))) ∷  -- more-1076
    (codes "F= -g\\\n\ta\\\n -g \\  |#\nF\\\n=\na.b += b ; b\\\n\\\n$(u \\\r\n a\\ ", ChangeValue Every (codes "F") (edits.Append []), NotMade 2 (BadArgument field.Value)) ∷  -- more-1078
    (codes ".RECIPEPREFIX = >\nF::= -g\nexport override = x$(a  b) a:b \\\n-O2 \\\r\n -g\n", ChangeValue Every (codes "F") (edits.Remove (codes "-g")), Accepted 1 1 (span 23 25 [] ∷ []) (Becomes (codes ".RECIPEPREFIX = >\nF::= \nexport override = x$(a  b) a:b \\\n-O2 \\\r\n -g\n"))) ∷  -- more-1079
    (codes "c include: ; true\n>rm -f x\n>rm -f x\n>a\n>true\nF!= $#  a:b \\\n    b b\t;\nx.o: ;\n\ta\n", ChangeValue Every (codes "a\\=") (edits.Set (codes "-O2 -O2")), NotMade 0 (BadArgument field.Name)) ∷  -- more-1080
    (codes "\noverride a.b\\\n= -O2\\\n\t-O2\\\n ${c} \\\n \\\n \n.RECIPEPREFIX = >\n", ChangeValue Every (codes "a.b") (edits.Set (codes "x$(a  b)")), Accepted 1 1 (span 17 33 (codes "x$(a  b)") ∷ []) (Becomes (codes "\noverride a.b\\\n= x$(a  b) \\\n \\\n \n.RECIPEPREFIX = >\n"))) ∷  -- more-1081
    (codes "a.b= =\ta #\r\n", ChangeValue Every (codes "a.b") (edits.Set (codes "${c} $(t -g)")), Accepted 1 1 (span 5 8 (codes "${c} $(t -g)") ∷ []) (Becomes (codes "a.b= ${c} $(t -g) #\r\n"))) ∷  -- more-1082
    (codes "\r\nc&: ; tue\n\tx \\ y\n\ttrue\n\t\ttrue\n", ChangeValue Every (codes "override") (edits.Add (codes "$(a b)")), NotMade 0 NoSuch) ∷  -- more-1083
    (codes "override a.b\\\n= $x #-g\noverride define \nc: ;\n\ta # b\n\tifdef Q\n\ttrue\nF =  \\\n", ChangeValue Every (codes "a.b") (edits.Set (codes "\t a\\\\")), NotMade 1 (BadArgument field.Value)) ∷  -- more-1084
    (codes "ifdef A\nF =| #\nendif\nexport F\\\n=  \\\n    \n", ChangeValue Every (codes "F") (edits.Set (codes "\\\\a")), Accepted 2 2 (span 11 12 (codes "\\\\a") ∷ span 40 40 (codes "\\\\a") ∷ []) (Becomes (codes "ifdef A\nF =\\\\a #\nendif\nexport F\\\n=  \\\n    \\\\a\n"))) ∷  -- more-1085
    (codes "ifdef A\noverride !=\\\n\ta ; $x a\nelse\nX\\\n+= -O2 \nendif\noverride = -O2 x=1#-g\n", ChangeValue Every (codes "override") (edits.Remove (codes "$ b")), NotMade 0 Absent) ∷  -- more-1086
    (codes "d: ; true\n>>a\n \nifdef A\na.b = $(a\tb) a # \\\n d\nelse\nX += a:b\t\\\\ = a\\\na\nendif\n", ChangeValue Every (codes "X") (edits.Append (codes "a\\  \r")), NotMade 1 (BadArgument field.Value)) ∷  -- more-1087
    (codes "F += $$ \n\t \noverride F =-O2 \\\r\n b = a\n", ChangeValue Every (codes "X") (edits.Append []), NotMade 0 (BadArgument field.Value)) ∷  -- more-1088
    (codes "a.b\\\n= -g -O2\tb a\nifdef A\nF ::= a\\\n\t= a \\\n    -g -O2\nendif\noverride F!=\\\\\r", ChangeValue Every (codes "F") (edits.Set (codes "$(t -g)")), Accepted 1 1 (span 32 52 (codes "$(t -g)") ∷ []) (Becomes (codes "a.b\\\n= -g -O2\tb a\nifdef A\nF ::= $(t -g)\nendif\noverride F!=\\\\\r"))) ∷  -- more-1089
    (codes "F\\\n= b  $(A -g) =# c\n\\\nt1 =\\\\ ${c}# x ; y : z = 1\nx.o: a | b\n", ChangeValue Every (codes "t1") (edits.Remove (codes "$(w a)")), NotMade 0 Absent) ∷  -- more-1091
    (codes "override\\\r\n?=\\\n a\\ \n# \\\nd c: a\n\tifdef Q\n\ta\n\tsay \"q\"\n\tx \\ y\n", ChangeValue Every (codes "override") (edits.Append (codes "\\# =")), Accepted 1 1 (span 19 19 (codes " \\# =") ∷ []) (Becomes (codes "override\\\r\n?=\\\n a\\  \\# =\n# \\\nd c: a\n\tifdef Q\n\ta\n\tsay \"q\"\n\tx \\ y\n"))) ∷  -- more-1096
    (codes "X?= -g\\\n# c\nX= a -g -g $\\ a\nF\\\n?= x=1 $  \\\r\n ; \\\n    ; \nX= -O2\\\n $(A -g) \\\n$(t \\\n -g)\n", ChangeValue Every (codes "X") (edits.Remove (codes "-g")), Accepted 2 2 (span 4 8 [] ∷ span 16 19 [] ∷ span 19 22 [] ∷ []) (Becomes (codes "X?= # c\nX= a $\\ a\nF\\\n?= x=1 $  \\\r\n ; \\\n    ; \nX= -O2\\\n $(A -g) \\\n$(t \\\n -g)\n"))) ∷  -- more-1097
    (codes "c: a\r\nendif\n\tsay \"q\"\nF =a -O2 \n\t\ttrue\nd d: a | b\n\ttrue \\)\ttrue\ntrue\n# n\\\n", ChangeValue Every (codes "F") (edits.Remove (codes "-O2")), Accepted 1 1 (span 25 29 [] ∷ []) (Becomes (codes "c: a\r\nendif\n\tsay \"q\"\nF =a \n\t\ttrue\nd d: a | b\n\ttrue \\)\ttrue\ntrue\n# n\\\n"))) ∷  -- more-1098
    (codes "X != a:b -O2\nc:: a | b\noverride F ?=-g", ChangeValue Every (codes "F") (edits.Add (codes "$(s (b) a)")), Accepted 1 1 (span 38 38 (codes " $(s (b) a)") ∷ []) (Becomes (codes "X != a:b -O2\nc:: a | b\noverride F ?=-g $(s (b) a)"))) ∷  -- more-1100
    (codes "F = -g $(w \\\n a) a\\$\\\n-g \\\n    b \nifdef A\nexport F = a$ \\\n a\\  $# -g -g\t# c\nendif\n", ChangeValue Every (codes "F") (edits.Remove (codes "-g")), Accepted 2 2 (span 4 7 [] ∷ span 65 68 [] ∷ span 68 71 [] ∷ []) (Becomes (codes "F = $(w \\\n a) a\\$\\\n-g \\\n    b \nifdef A\nexport F = a$ \\\n a\\  $#\t# c\nendif\n"))) ∷  -- more-1102
    (codes "F\\\r\n= \\\\ =\r\nexport X:= a  -g\r\n", ChangeValue Every (codes "X") (edits.Append (codes "-g a")), Accepted 1 1 (span 28 28 (codes " -g a") ∷ []) (Becomes (codes "F\\\r\n= \\\\ =\r\nexport X:= a  -g -g a\r\n"))) ∷  -- more-1104
    (codes "ifdef A\nF = $(A -g) a\ta:b\nelse\nF\\\n= a  -g = \nendif\\\n", ChangeValue Every (codes "F") (edits.Remove (codes "a:b")), Accepted 1 1 (span 21 25 [] ∷ []) (Becomes (codes "ifdef A\nF = $(A -g) a\nelse\nF\\\n= a  -g = \nendif\\\n"))) ∷  -- more-1105
    (codes "override= -g", ChangeValue Every (codes "override") (edits.Set (codes "$(w a) b")), Accepted 1 1 (span 10 12 (codes "$(w a) b") ∷ []) (Becomes (codes "override= $(w a) b"))) ∷  -- more-1106
    (codes "a.b :=a \\\nx=1\\\n; #\nd: ; true\n>true\n>a\nifdef A\na.b!= = b\tb\nelse\nF\\\n:=  a:b\nendif\nX ::= $\\\\\n\t\nF = -g Ã© -g $(t \\\n -g) \\\n=\n", ChangeValue Every (codes "X") (edits.Add (codes "${c}")), NotMade 1 OpenValue) ∷  -- more-1107
    (codes "ifdef A\r\nX= Ã© a \\ b \\\r\na\\\\\r\nendif\r\nF := ; \\\r\n \\\r\n a\\$\\\r\n -g \r\nifdef A\r\nF\\\r\n= $(A -g)\\\r\n$(a b) \\\r\n \\\r\n $(w \\\r\n a) \r\nendif\r\n", ChangeValue Every (codes "F") (edits.Remove (codes "a\\$ -g")), Accepted 1 1 (span 42 60 [] ∷ []) (Becomes (codes "ifdef A\r\nX= Ã© a \\ b \\\r\na\\\\\r\nendif\r\nF := ; \r\nifdef A\r\nF\\\r\n= $(A -g)\\\r\n$(a b) \\\r\n \\\r\n $(w \\\r\n a) \r\nendif\r\n"))) ∷  -- more-1109
    (codes "c:\n\ttrue \\\r\n\ttrue\n%.o: a | b\nifdef A\nX::= -O2#-g\nendif\n%.o::\n\ty\r\n", ChangeValue Every (codes "X") (edits.Append []), NotMade 1 (BadArgument field.Value)) ∷  -- more-1110
    (codes "ifdef A\r\nX= -g a:b a -g \nendif\nc:\n\tifdef Q\n\t\ttrue\n\trm -f x\n\t# n\nF::= \nF\\\n=\\\n\ta x=1 $(a b) \\\n \\\n # c\n", ChangeValue Every (codes "F") (edits.Append (codes "$(A -g) a")), Accepted 2 2 (span 69 69 (codes "$(A -g) a") ∷ span 89 89 (codes " $(A -g) a") ∷ []) (Becomes (codes "ifdef A\r\nX= -g a:b a -g \nendif\nc:\n\tifdef Q\n\t\ttrue\n\trm -f x\n\t# n\nF::= $(A -g) a\nF\\\n=\\\n\ta x=1 $(a b) $(A -g) a \\\n \\\n # c\n"))) ∷  -- more-1112
    (codes "F = a\r\nF ?=  # a \\\\\r\nF::= $(t \\\r\n -g)  $$ \\\r\n \\\r\n -g $x ;\r\nF\\\r\n=-g \\\r\n \\\r\n a:b  $  \r\nF= a:b a $(a\tb) ", ChangeValue Every (codes "+") (edits.Set []), NotMade 0 (BadArgument field.Name)) ∷  -- more-1113
    (codes ".RECIPEPREFIX = >\r\nF+= -O2 ${c} \\\r\nx=1# \\\r\n d\r\n", ChangeValue Every (codes "F") (edits.Append []), NotMade 1 (BadArgument field.Value)) ∷  -- more-1114
    (codes "F $a$\\ \nF ::X= # c\n", ChangeValue Every (codes "$(X)") (edits.Add (codes "-g")), NotMade 0 (BadArgument field.Name)) ∷  -- more-1115
    (codes "c&: ;\n # n\n\t\n\ttrue\nF\\\n= $(w \\\n a) \\\n    -O2\\\n\\\n$(A -g) a:b \nd: a | b\n\t\n\ttrue\noverride define \nc&:\n\ta\n", ChangeValue Every (codes "F") (edits.Remove (codes "a:b")), Accepted 1 1 (span 54 58 [] ∷ []) (Becomes (codes "c&: ;\n # n\n\t\n\ttrue\nF\\\n= $(w \\\n a) \\\n    -O2\\\n\\\n$(A -g) \nd: a | b\n\t\n\ttrue\noverride define \nc&:\n\ta\n"))) ∷  -- more-1117
    (codes "F::= # \\\n d\nF\\\n+= | \\\n \\\n a:b\t-g a \n", ChangeValue Every (codes "F") (edits.Set []), Accepted 2 2 (span 5 5 [] ∷ span 18 35 [] ∷ []) (Becomes (codes "F::= # \\\n d\nF\\\n+= \n"))) ∷  -- more-1119
    (codes "ifdef A\nX = \\\n \\\n | a\\\n-g -O2 -O2 \nendif\nifdef A\noverride = -O2\nelse\nX!= a\\\n\\\n-g = # \\\n d\nendif\n", ChangeValue Every (codes "X") (edits.Add (codes "-g")), NotMade 0 Already) ∷  -- more-1120
    (codes "export F !=-g ;\\\n\\\n#", ChangeValue Every (codes "F") (edits.Set (codes "$(s (b) a)")), Accepted 1 1 (span 11 15 (codes "$(s (b) a)") ∷ []) (Becomes (codes "export F !=$(s (b) a)\\\n\\\n#"))) ∷  -- more-1122
    (codes "%.o:: # c\n\ta\\\n>b\n\tifdef Q\n\tsay \"q\"\nifdef A\nX = -g -O2\nendif\n%.o&:\n", ChangeValue Every (codes "F") (edits.Append (codes "a\\ b")), NotMade 0 NoSuch) ∷  -- more-1123
    (codes "F\\\n!=\t-g = a$\\\n$(q:;=|)&:: $(a b) $(p #) \t$(f {) |\\\n\t\\\r\n \n\t \na.b\\\n+= ${c}  ", ChangeValue Every (codes "a.b") (edits.Remove (codes "=")), NotMade 0 Absent) ∷  -- more-1124
    (codes "F\\\r\n= \r\nd: # c\r\n\trm -f x\r\n\tx \\ y\r\n\\#x::= \\\r\n  foo\r\nd: # c\r\n>t\r\n>a\r\n>true\r\n>rm -rf x\r\nF\\\r\n= \\\r\n \\\r\n x=1\ta# a \\\\\r\n", ChangeValue Every (codes "a.b") (edits.Set (codes "a")), NotMade 0 NoSuch) ∷  -- more-1125
    (codes "X\\\n::= \\\n= | \\\r\n $$ \\\n    -g  \n", ChangeValue Every (codes "X") (edits.Add (codes "-g")), NotMade 0 Already) ∷  -- more-1130
    (codes ".RECIPEPREFIX = >\nc: a | b\n\ta\\\n>b\nF != b a =\n\ta\n\ttrue\na.b!= \\\n \\\n \n", ChangeValue Every (codes "F") (edits.Append (codes "a $\\x")), Accepted 1 1 (span 44 44 (codes " a $\\x") ∷ []) (Becomes (codes ".RECIPEPREFIX = >\nc: a | b\n\ta\\\n>b\nF != b a = a $\\x\n\ta\n\ttrue\na.b!= \\\n \\\n \n"))) ∷  -- more-1131
    []

answers_7 : map (λ row. account row.0 row.1) rows_7 ≡ map (λ row. row.2) rows_7
answers_7 = refl

abbrev rows_8 : List (List ℕ × Edit × Account)
rows_8 =
    (codes "c:: a | b\n\ta # b\n\tsay \"q\"\nifdef A\nX = a:b \nelse\nF =  # a \\\\\nendif\nd: a | b\nelse\n\ta \\\n\tb\n\tb\n\tx \\ y\nc&: a | b\noverride?=$(a\tb) \\\n \\\n a\\\n a\\\\ \\\n \\\n b\n\tb\n\trm -rf x\n", ChangeValue Every (codes "F") (edits.Remove (codes "-O2")), NotMade 0 Absent) ∷  -- more-1132
    (codes "c: ; true\n\ttrue\n\ttrue\n\tsay \"q\"\nX ?= -g \\\n| | \n", ChangeValue Every (codes "X") (edits.Append (codes "-O2")), Accepted 1 1 (span 44 44 (codes " -O2") ∷ []) (Becomes (codes "c: ; true\n\ttrue\n\ttrue\n\tsay \"q\"\nX ?= -g \\\n| | -O2 \n"))) ∷  -- more-1133
    (codes "ifdef A\nexport F+=\\\n\\\nb \\\\\n b ${c} a \nendif", ChangeValue Every (codes "F") (edits.Add (codes "$\\x")), Accepted 1 1 (span 26 26 (codes " $\\x") ∷ []) (Becomes (codes "ifdef A\nexport F+=\\\n\\\nb \\\\ $\\x\n b ${c} a \nendif"))) ∷  -- more-1135
    (codes "ifdef A\nX != b -O2 ; a:b b # c\nelse\noverride += x=1 b\nendif\n", ChangeValue Every (codes "X") (edits.Set (codes "$(A -g)")), Accepted 1 1 (span 13 26 (codes "$(A -g)") ∷ []) (Becomes (codes "ifdef A\nX != $(A -g) # c\nelse\noverride += x=1 b\nendif\n"))) ∷  -- more-1136
    (codes "include:: a\r\n\ttrue\n\ta\nexport X =b# \\\n d\nX =|# c\na.b =-g\t$# a \\\\", ChangeValue Every (codes "X") (edits.Remove (codes "b")), Accepted 1 1 (span 32 33 [] ∷ []) (Becomes (codes "include:: a\r\n\ttrue\n\ta\nexport X =# \\\n d\nX =|# c\na.b =-g\t$# a \\\\"))) ∷  -- more-1138
    (codes "override= $$\\\n\\\\ \\\n    b\nc: ;\n>rm -rf x\n>a\nifdef A\nF = \\\r\n -g -g\nendif\n", ChangeValue Every (codes "F") (edits.Remove (codes "-g")), Accepted 1 1 (span 59 64 [] ∷ []) (Becomes (codes "override= $$\\\n\\\\ \\\n    b\nc: ;\n>rm -rf x\n>a\nifdef A\nF = \\\r\n \nendif\n"))) ∷  -- more-1141
    (codes ".RECIPEPREFIX = >\r\noverride :=b \\  \\ b\r\n", ChangeValue Every (codes "override") (edits.Add (codes "a:b")), Accepted 1 1 (span 38 38 (codes " a:b") ∷ []) (Becomes (codes ".RECIPEPREFIX = >\r\noverride :=b \\  \\ b a:b\r\n"))) ∷  -- more-1144
    (codes "X :=-O2 \\\n \\\n -g\\\n\\\nx=1\n", ChangeValue Every (codes "X") (edits.Add (codes "-g")), NotMade 0 Already) ∷  -- more-1145
    (codes "override F\\\n+= \\##-g\nc:: a\n\ta\n\tb\n%.o:: a | b\n>true\n # n\n>rm -f x\n>a\na.b ?= a a\t$(u\nc: a\n\trm -rf x\n\t\ttrue", ChangeValue Every (codes "a.b") (edits.Append (codes "-g")), NotMade 1 OpenValue) ∷  -- more-1149
    (codes "F = a $(w \\\n a) x=1 -O2 -g\na.b\\\n?= b -g\nc: ;\n>rm -f x\nF\\\n+= x=1 ${c}\\\n\ta # c\n>\n# \\\n n\nexport a.b::= $\\  a# \\\n d\nc: ;\n # n\n\ta\n\t# n\n", ChangeValue Every (codes "F") (edits.Add (codes "${c}")), Accepted 1 1 (span 26 26 (codes " ${c}") ∷ []) (Becomes (codes "F = a $(w \\\n a) x=1 -O2 -g ${c}\na.b\\\n?= b -g\nc: ;\n>rm -f x\nF\\\n+= x=1 ${c}\\\n\ta # c\n>\n# \\\n n\nexport a.b::= $\\  a# \\\n d\nc: ;\n # n\n\ta\n\t# n\n"))) ∷  -- more-1151
    (codes "F = $(u\r\nF =\t-O2  $(t \\\r\n -g) ${v a # a \\\\\r\n\t\r\nd: ; true\r\n>a\r\n>say \"q\"\r\nF = a \\\r\n -g\t# a \\\\\r\n", ChangeValue Every (codes "F") (edits.Remove (codes "-g")), Accepted 1 1 (span 77 84 [] ∷ []) (Becomes (codes "F = $(u\r\nF =\t-O2  $(t \\\r\n -g) ${v a # a \\\\\r\n\t\r\nd: ; true\r\n>a\r\n>say \"q\"\r\nF = a\t# a \\\\\r\n"))) ∷  -- more-1152
    (codes "F\\\r\n= b \\\r\n\\\\\r\n\ta \r\nF:= a \\\r\n \\\r\n b# c\r\nF = -O2 b a$\\\\\r\n\\\r\n#", ChangeValue Every (codes "F") (edits.Append (codes "a:b -O2")), NotMade 3 OpenValue) ∷  -- more-1153
    (codes "verride F::=#-g\r\nifdef A\r\nF = -g\r\nendif", ChangeValue Every (codes "F") (edits.Append (codes "b $(t -g)")), Accepted 1 1 (span 32 32 (codes " b $(t -g)") ∷ []) (Becomes (codes "verride F::=#-g\r\nifdef A\r\nF = -g b $(t -g)\r\nendif"))) ∷  -- more-1154
    (codes "F ?=b b \\ b\nifdef A\nF = -g\\\n a a$ \nelse\nF ?=\\\n\ta:b\\\n ${c} b# c\nendif", ChangeValue Every (codes "F") (edits.Add (codes "x=1")), Accepted 3 3 (span 11 11 (codes " x=1") ∷ span 34 34 (codes " x=1") ∷ span 59 59 (codes " x=1") ∷ []) (Becomes (codes "F ?=b b \\ b x=1\nifdef A\nF = -g\\\n a a$  x=1\nelse\nF ?=\\\n\ta:b\\\n ${c} b x=1# c\nendif"))) ∷  -- more-1155
    (codes "a.b?= -g \\\n \\\n $x\\\na\n%.o:\n\trm -rf x\nF=-g  a \\\\\\\\ a\\\\ \\\n    a:b\nelse\n\ta\na.b = b  = a $x\\\n ", ChangeValue Every (codes "a.b") (edits.Set (codes "\\\\a")), Accepted 2 2 (span 6 20 (codes "\\\\a") ∷ span 77 86 (codes "\\\\a") ∷ []) (Becomes (codes "a.b?= \\\\a\n%.o:\n\trm -rf x\nF=-g  a \\\\\\\\ a\\\\ \\\n    a:b\nelse\n\ta\na.b = \\\\a\\\n "))) ∷  -- more-1156
    (codes "ifdef A\nF=; \nelse\nF = ; -O2 a:b\nendif\noverride\\\n=a -O2\nc:\n>true\nifeq (a,b)\n>a \\\n\tb\n>ifdef Q\nX = a:b # \\\n d\n", ChangeValue Every (codes "X") (edits.Set (codes "-g -g")), Accepted 1 1 (span 96 99 (codes "-g -g") ∷ []) (Becomes (codes "ifdef A\nF=; \nelse\nF = ; -O2 a:b\nendif\noverride\\\n=a -O2\nc:\n>true\nifeq (a,b)\n>a \\\n\tb\n>ifdef Q\nX = -g -g # \\\n d\n"))) ∷  -- more-1157
    (codes "include x.o&: a | b\n\trm -rf x\n\tx \\ y\n\tsay \"q\"\noverride::= a\\   -O2 # c", ChangeValue Every (codes "override") (edits.Add (codes "-O2")), NotMade 0 Already) ∷  -- more-1158
    (codes ".RECIPEPREFIX = >\nc: # c\n\t>a\n\t\ttrue\n\ta # b\n\ta # b\noverride = \\\n \\\n -g\nt1:::=\\#-include2\n", ChangeValue Every (codes "override") (edits.Append (codes "x=1")), Accepted 1 1 (span 69 69 (codes " x=1") ∷ []) (Becomes (codes ".RECIPEPREFIX = >\nc: # c\n\t>a\n\t\ttrue\n\ta # b\n\ta # b\noverride = \\\n \\\n -g x=1\nt1:::=\\#-include2\n"))) ∷  -- more-1160
    (codes "F\\\n= | = \\\nc: ; true\nelse\nendif\nF = |#-g\nifdef A\noverride X== b $$ a \\\r\n b\nendif\n", ChangeValue Every (codes "F") (edits.Remove (codes "|")), Accepted 2 2 (span 5 7 [] ∷ span 36 37 [] ∷ []) (Becomes (codes "F\\\n= = \\\nc: ; true\nelse\nendif\nF = #-g\nifdef A\noverride X== b $$ a \\\r\n b\nendif\n"))) ∷  -- more-1161
    (codes "X\\\n:= $(a b)  ; \\\n= b -g \nifdef A\nF != -O2 $(a\tb) -g # c\nelse\nX::= ;\\\n-g b\nendif\n", ChangeValue Every (codes "F") (edits.Remove (codes "$(a\tb)")), Accepted 1 1 (span 42 49 [] ∷ []) (Becomes (codes "X\\\n:= $(a b)  ; \\\n= b -g \nifdef A\nF != -O2 -g # c\nelse\nX::= ;\\\n-g b\nendif\n"))) ∷  -- more-1162
    (codes "a.b:::=$$ \nF += a a:b $\\ -g ; \\\r\n \ndefine:::=# \r\nF\\\n?= =", ChangeValue Every (codes "F") (edits.Remove (codes "a:b")), Accepted 1 1 (span 17 21 [] ∷ []) (Becomes (codes "a.b:::=$$ \nF += a $\\ -g ; \\\r\n \ndefine:::=# \r\nF\\\n?= ="))) ∷  -- more-1163
    (codes "override=-O2#-g\n", ChangeValue Every (codes "override") (edits.Append (codes "-g")), Accepted 1 1 (span 12 12 (codes " -g") ∷ []) (Becomes (codes "override=-O2 -g#-g\n"))) ∷  -- more-1164
    (codes "F = -O2\\\r\n ${v a\\\r\n\\\r\nx$(a  b) \\\r\n \\\r\n a\\\\ a\\$ \r\nc&:\r\n", ChangeValue Every (codes "F") (edits.Set (codes "$(w a) a:b")), Accepted 1 1 (span 4 47 (codes "$(w a) a:b") ∷ []) (Becomes (codes "F = $(w a) a:b\r\nc&:\r\n"))) ∷  -- more-1165
    (codes "c:\n\trm -f x\n\ta \\\n\tb\n\ta\nifeq (a,b)\nF = b \na.b= b \\\n \\\n ; a \\\n$x\n", ChangeValue Every (codes "F") (edits.Add (codes "$(a b)")), Accepted 1 1 (span 39 39 (codes " $(a b)") ∷ []) (Becomes (codes "c:\n\trm -f x\n\ta \\\n\tb\n\ta\nifeq (a,b)\nF = b $(a b) \na.b= b \\\n \\\n ; a \\\n$x\n"))) ∷  -- more-1166
    (codes "ifdef A\r\nF:= x$(a  b)\t$(A -g)\\\r\n\t-O2  $(u \\\r\n    \r\nelse\r\nX = ; x=1  -g \\# |\t# a \\\\\r\nendif\r\n\\\r\n\t\r\nF ?= \\#  -O2 -g\r\n", ChangeValue Every (codes "F") (edits.Add (codes "$(t -g)")), NotMade 2 OpenValue) ∷  -- more-1167
    (codes "endef # c\na.b=a\nd: ; true\n\tt\n\ttrue\n\tsay \"q\"\nc: # c\n\trm -f x\n\ttrue\n\ttrue\n", ChangeValue Every (codes "a.b") (edits.Set (codes "-O2 \\#")), Accepted 1 1 (span 14 15 (codes "-O2 \\#") ∷ []) (Becomes (codes "endef # c\na.b=-O2 \\#\nd: ; true\n\tt\n\ttrue\n\tsay \"q\"\nc: # c\n\trm -f x\n\ttrue\n\ttrue\n"))) ∷  -- more-1168
    (codes "ifdef A\nF = b \\\r\n -g\tx=1\nelse\nF = b -g x=1 \\\na:b \\\n \\\n $x\nendif\nifdef A\nF ?= b\nelse\nF::= b $(a b)\nendif\nX= $(u\n#\\\\\nx.o: a\n\ta\\\n b\n\tb\n", ChangeValue Every (codes "X") (edits.Append (codes "$(a b)")), NotMade 1 OpenValue) ∷  -- more-1169
    (codes "d:: # c\n\tb\n\ta\nF ::= -g -g  b# c\nF:= -g\\\n\t\noverride+= a:b \\\n \\\n | x=1 \\\r\n b\nF :=# \\\n d\n", ChangeValue Every (codes "F") (edits.Remove (codes "b")), Accepted 1 1 (span 25 28 [] ∷ []) (Becomes (codes "d:: # c\n\tb\n\ta\nF ::= -g -g# c\nF:= -g\\\n\t\noverride+= a:b \\\n \\\n | x=1 \\\r\n b\nF :=# \\\n d\n"))) ∷  -- more-1171
    (codes "# \r\nc:: a | b\n\tsay \"q\"\n\trm -f x\n\ta\nc: ;\n\trm -f x\n\trm -f x\n\t>a\n\\\n-x_9 \\\n \\\n ?=$(s\\) ${c} \t", ChangeValue Every (codes "-x_9") (edits.Add (codes "a\\")), NotMade 1 (BadArgument field.Word)) ∷  -- more-1174
    (codes "ifdef A\nF\\\n+=b\nelse\nF\\\n= -O2\\\n-O2#\nendif\n\t# \r\n", ChangeValue Every (codes "F") (edits.Remove (codes "$ b")), NotMade 0 Absent) ∷  -- more-1175
    (codes "include&: a | b\n\ta # b\nifdef A\na.b= a:b \\\n \\\n -g Ã©\\\n -g#\nifdef A\noverride F\\\n::=a\nelse\nX ::= $\\\\\n $\\ a | #-g\nendif\ninclude: ;\n\trm -rf x\n\ttrue\n\tsay \"q\"\nF = -g | -g\n", ChangeValue Every (codes "X") (edits.Add (codes "$ b")), NotMade 1 OpenValue) ∷  -- more-1176
    (codes "F +==\\\n\t\\\\ ${c}\nd&: a | b\n>rm -f x\n>\n", ChangeValue Every (codes "F") (edits.Append (codes "\\$x")), Accepted 1 1 (span 15 15 (codes " \\$x") ∷ []) (Becomes (codes "F +==\\\n\t\\\\ ${c} \\$x\nd&: a | b\n>rm -f x\n>\n"))) ∷  -- more-1178
    (codes "c: a | b\n\tifdef Q\n\t\\\n\n\tifdef Q\n\tb\nCC\t?= b\\\n\t\\\r\na\\ \nX = $ x=1 $(w \\\n a) \n", ChangeValue Every (codes "CC") (edits.Remove (codes "b")), Accepted 1 1 (span 40 47 [] ∷ []) (Becomes (codes "c: a | b\n\tifdef Q\n\t\\\n\n\tifdef Q\n\tb\nCC\t?= a\\ \nX = $ x=1 $(w \\\n a) \n"))) ∷  -- more-1179
    (codes "ifdef A\nF ?= b $\tb\nelse\nF = \\\n    a:b \nendif\n\\\n&$\t\\\na()\n", ChangeValue Every (codes "F") (edits.Remove (codes "b")), Accepted 1 1 (span 13 15 [] ∷ []) (Becomes (codes "ifdef A\nF ?= $\tb\nelse\nF = \\\n    a:b \nendif\n\\\n&$\t\\\na()\n"))) ∷  -- more-1181
    (codes "ifdef A\nF != \nendif\nF = a \\\n# a \\\\\nifdef::= ", ChangeValue Every (codes "F") (edits.Remove (codes "-g")), NotMade 0 Absent) ∷  -- more-1182
    (codes "override != -O2 \nF+= x$(a  b) b", ChangeValue Every (codes "override") (edits.Remove (codes "-g")), NotMade 0 Absent) ∷  -- more-1184
    (codes "a.b = a b $$ $\\\n", ChangeValue Every (codes "a.b") (edits.Append (codes "-g -O2")), Accepted 1 1 (span 15 15 (codes " -g -O2") ∷ []) (Becomes (codes "a.b = a b $$ $\\ -g -O2\n"))) ∷  -- more-1185
    (codes "X=-O2 a \\\n    \noverride\\\n!= a \\\r\n -g\nX+=b# \\\n d\noverride = a:b b\\\n\\\n-g#-g", ChangeValue Every (codes "X") (edits.Add (codes "a$ b")), Accepted 2 2 (span 7 7 (codes " a$ b") ∷ span 41 41 (codes " a$ b") ∷ []) (Becomes (codes "X=-O2 a a$ b \\\n    \noverride\\\n!= a \\\r\n -g\nX+=b a$ b# \\\n d\noverride = a:b b\\\n\\\n-g#-g"))) ∷  -- more-1187
    (codes "a.b\\\n= | -g\nd: a | b\n>t\n> a\noverride F != a\\\n b \\\nx=1#\nF != a\\\\ | \\\nb -g  -g \\\n \\\n #-g\nifdef A\noverride F += -O2 -O2\nelse\nexport a.b += -O2 -g a a \\\n-O2 \nendif\n", ChangeValue Every (codes "a.b") (edits.Remove (codes "-g")), Accepted 2 2 (span 8 11 [] ∷ span 139 142 [] ∷ []) (Becomes (codes "a.b\\\n= |\nd: a | b\n>t\n> a\noverride F != a\\\n b \\\nx=1#\nF != a\\\\ | \\\nb -g  -g \\\n \\\n #-g\nifdef A\noverride F += -O2 -O2\nelse\nexport a.b += -O2 a a \\\n-O2 \nendif\n"))) ∷  -- more-1188
    (codes "export override:= ${c} -O|\\\n\t-O2\n", ChangeValue Every (codes "override") (edits.Remove (codes "-O2")), Accepted 1 1 (span 26 32 [] ∷ []) (Becomes (codes "export override:= ${c} -O|\n"))) ∷  -- more-1189
    (codes "c\tx.o :\\\r\n\\#x \t!=a&b \nexport F ?= = \\\n \\\n ; $(u \nF = a\\$ b \nexport F = -g \\\n    $(w \\\n a)\\\n\\\n$(w \\\n a)\nF += b -g $\\\n\n", ChangeValue Every (codes "F") (edits.Add (codes "b")), NotMade 3 OpenValue) ∷  -- more-1192
    (codes "\t\\\r\nendef\r\ninclude: ; true\r\n\ta\r\n\tb\r\nexport F = b\r\ninclude: # c\r\nendif\r\n\trm -f x\r\nifeq (a,b)", ChangeValue Every (codes "F") (edits.Remove (codes "|")), NotMade 0 Absent) ∷  -- more-1193
    (codes "include: a\n>t\nendif\nF := a:b\\\n-g \\\n    = $(a\tb)\noverride\\\n+= -g ", ChangeValue Every (codes "F") (edits.Set []), Accepted 1 1 (span 25 47 [] ∷ []) (Becomes (codes "include: a\n>t\nendif\nF := \noverride\\\n+= -g "))) ∷  -- more-1196
    (codes ".RECIPEPREFIX = >\nd %.o: a\n>ifdef Q\na.b\\\n=b \\\na\\\\ $  \nF = \\\n \n endef#c", ChangeValue Every (codes "F") (edits.Add (codes "a")), Accepted 1 1 (span 61 61 (codes "a") ∷ []) (Becomes (codes ".RECIPEPREFIX = >\nd %.o: a\n>ifdef Q\na.b\\\n=b \\\na\\\\ $  \nF = \\\n a\n endef#c"))) ∷  -- more-1197
    (codes "ifdef A\nF\\\n=$$ \\\n    -g#\nelse\nX= |\nendif\n", ChangeValue Every (codes "F") (edits.Remove (codes "-g")), Accepted 1 1 (span 14 23 [] ∷ []) (Becomes (codes "ifdef A\nF\\\n=$$#\nelse\nX= |\nendif\n"))) ∷  -- more-1199
    (codes "F = x=1  -O2\t\\ # c\nX::= a\nc: a\nc: a\n\trm -f x\n\n\tx \\ y\n\tx \\ y\n", ChangeValue Every (codes "F") (edits.Add (codes "x=1")), NotMade 0 Already) ∷  -- more-1200
    (codes "F\\\n= \nifdef A\na.b = x$(a  b)# c\nendif ", ChangeValue Every (codes "a.b") (edits.Remove (codes "x$(a  b)")), Accepted 1 1 (span 20 28 [] ∷ []) (Becomes (codes "F\\\n= \nifdef A\na.b = # c\nendif "))) ∷  -- more-1202
    (codes "X= b\r\noverride ?= \\\r\n\r\nF += a\\$", ChangeValue Every (codes "F") (edits.Set []), Accepted 1 1 (span 28 31 [] ∷ []) (Becomes (codes "X= b\r\noverride ?= \\\r\n\r\nF += "))) ∷  -- more-1203
    (codes "X ?= |# a \\\\\nc: # c\n\ta\\\n b\n\t# n\n\ttrue\n\trm -rf x\nifdef A\noverride?= -g\t\nelse\nX\\\n= -g\nendif\n", ChangeValue Every (codes "override") (edits.Set (codes "a")), Accepted 1 1 (span 67 69 (codes "a") ∷ []) (Becomes (codes "X ?= |# a \\\\\nc: # c\n\ta\\\n b\n\t# n\n\ttrue\n\trm -rf x\nifdef A\noverride?= a\t\nelse\nX\\\n= -g\nendif\n"))) ∷  -- more-1204
    (codes "X\\!\n:= a\tx=1  ; \\\n    | \\\r\n #-g\n", ChangeValue Every (codes "\\#x") (edits.Add (codes "b")), NotMade 0 (BadArgument field.Name)) ∷  -- more-1205
    []

answers_8 : map (λ row. account row.0 row.1) rows_8 ≡ map (λ row. row.2) rows_8
answers_8 = refl

abbrev rows_9 : List (List ℕ × Edit × Account)
rows_9 =
    (codes "d: a\n\tb\n\ta\nF = $(s (b) a) b\n", ChangeValue Every (codes "F") (edits.Append (codes "$x -g")), Accepted 1 1 (span 27 27 (codes " $x -g") ∷ []) (Becomes (codes "d: a\n\tb\n\ta\nF = $(s (b) a) b $x -g\n"))) ∷  -- more-1206
    (codes "X::= | b \r\nifdef A\nF\\\n=a$\\ a -O2 # c\nelse\nX ?= a Ã©\nendif", ChangeValue Every (codes "X") (edits.Set []), Accepted 2 2 (span 5 9 [] ∷ span 47 51 [] ∷ []) (Becomes (codes "X::= \r\nifdef A\nF\\\n=a$\\ a -O2 # c\nelse\nX ?= \nendif"))) ∷  -- more-1207
    (codes ".RECIPE)REFIX = >\nc:\n\ttrue\n\t\n\t\ttrue\nc: a | b\n>\n>x \\ y\nelse\nF\\\n=\\# \\\n \\\n a \\\\\\\\\n", ChangeValue Every (codes "F") (edits.Set []), Accepted 1 1 (span 63 78 [] ∷ []) (Becomes (codes ".RECIPE)REFIX = >\nc:\n\ttrue\n\t\n\t\ttrue\nc: a | b\n>\n>x \\ y\nelse\nF\\\n=\n"))) ∷  -- more-1209
    (codes "F = $(A -g) \\\n \\\n a\tb  | $##\noverride = ;\n", ChangeValue Every (codes "F") (edits.Remove (codes "a")), Accepted 1 1 (span 11 19 [] ∷ []) (Becomes (codes "F = $(A -g)\tb  | $##\noverride = ;\n"))) ∷  -- more-1210
    (codes "c:: a | b\r\n", ChangeValue Every (codes "override") (edits.Append (codes "b")), NotMade 0 NoSuch) ∷  -- more-1213
    (codes "c: # c\nelse\na.b = \tt-include2${c} \nc: # c", ChangeValue Every (codes "a.b") (edits.Set (codes "$ b a\\ b")), Accepted 1 1 (span 19 33 (codes "$ b a\\ b") ∷ []) (Becomes (codes "c: # c\nelse\na.b = \t$ b a\\ b \nc: # c"))) ∷  -- more-1214
    (codes "ifdef A\noverride ?= a\\$\\\n # a \\\\\nelse\nF =$$  | a:b\\\nb \nendif\n : t1 !=a&b \\\\ \\\\\\\t\n", ChangeValue Every (codes "F") (edits.Append (codes "b")), Accepted 1 1 (span 53 53 (codes " b") ∷ []) (Becomes (codes "ifdef A\noverride ?= a\\$\\\n # a \\\\\nelse\nF =$$  | a:b\\\nb b \nendif\n : t1 !=a&b \\\\ \\\\\\\t\n"))) ∷  -- more-1215
    (codes "F:=b\\\nb $x b -O2\n", ChangeValue Every (codes "F") (edits.Add (codes "b")), NotMade 0 Already) ∷  -- more-1217
    (codes "ifdef A\na.b= # \\\n d\nelse\noverride = $\\\n a ;\nendif\nc::\nX ?==# \\\n d\n", ChangeValue Every (codes "X") (edits.Set (codes "$(A -g)")), Accepted 1 1 (span 58 59 (codes "$(A -g)") ∷ []) (Becomes (codes "ifdef A\na.b= # \\\n d\nelse\noverride = $\\\n a ;\nendif\nc::\nX ?=$(A -g)# \\\n d\n"))) ∷  -- more-1219
    (codes ".RECIPEPREFIX = >\n&X$ ", ChangeValue Every (codes "a.b") (edits.Append (codes "| $(A -g)")), NotMade 0 NoSuch) ∷  -- more-1220
    (codes "F ?$\\\n -g b |\n", ChangeValue Every (codes "X") (edits.Remove (codes "-O2")), NotMade 0 NoSuch) ∷  -- more-1224
    (codes "F ?= a\\\\\\\nx=1 \nd:\n>t\n> a\n# n\nX\\\n!= \\\n$(a b)\n", ChangeValue Every (codes "X") (edits.Set (codes "a:b a#")), NotMade 1 (BadArgument field.Value)) ∷  -- more-1226
    (codes "X=x=1 $$\\\n|\nF != Ã© \\\r\n -g\\\n-O2\n", ChangeValue Every (codes "X") (edits.Append (codes "-O2")), Accepted 1 1 (span 11 11 (codes " -O2") ∷ []) (Becomes (codes "X=x=1 $$\\\n| -O2\nF != Ã© \\\r\n -g\\\n-O2\n"))) ∷  -- more-1228
    (codes "override a.b := a\\  \\\na$ \tb\\\nb\\\n\ta\nF!=b \\\na:b -g \\\r\n ${c}\n.RECIPEPREFIX = >", ChangeValue Every (codes "F") (edits.Remove (codes "b")), Accepted 1 1 (span 38 42 [] ∷ []) (Becomes (codes "override a.b := a\\  \\\na$ \tb\\\nb\\\n\ta\nF!=a:b -g \\\r\n ${c}\n.RECIPEPREFIX = >"))) ∷  -- more-1229
    (codes "a.b\\\r\n:= ;\r\noverride\\\r\n+= a a\\\r\n\t${c} a#-g\r\n #c \\\r\n d\r\n", ChangeValue Every (codes "a.b") (edits.Add (codes "-g")), Accepted 1 1 (span 10 10 (codes " -g") ∷ []) (Becomes (codes "a.b\\\r\n:= ; -g\r\noverride\\\r\n+= a a\\\r\n\t${c} a#-g\r\n #c \\\r\n d\r\n"))) ∷  -- more-1230
    (codes "d: a\r\n%.o: ;\r\n\t\r\n\tifdef Q\r\n\ta \\\r\n\tb\r\n\tsay \"q\"\r\na.b\\\r\n+= b =\t-g", ChangeValue Every (codes "a.b") (edits.Append (codes "-O2 x=1")), Accepted 1 1 (span 62 62 (codes " -O2 x=1") ∷ []) (Becomes (codes "d: a\r\n%.o: ;\r\n\t\r\n\tifdef Q\r\n\ta \\\r\n\tb\r\n\tsay \"q\"\r\na.b\\\r\n+= b =\t-g -O2 x=1"))) ∷  -- more-1231
    (codes "F\\\r\n!= b \\\r\n \\\r\n x$(a  b) #\r\n", ChangeValue Every (codes "F") (edits.Set (codes "$\\ $x")), Accepted 1 1 (span 7 25 (codes "$\\ $x") ∷ []) (Becomes (codes "F\\\r\n!= $\\ $x #\r\n"))) ∷  -- more-1232
    (codes "c: a | b\n\tx \\ y\n\trm -rf x\n# \\\n n\n\tx \\ y\nifdef A\nX != \\# \nelse\nX:= b ; a\nendif\noverride += -g -g\t$$#\noverride !=x=1\n", ChangeValue Every (codes "o-$(a b)") (edits.Set (codes "-O2 $x")), NotMade 0 (BadArgument field.Name)) ∷  -- more-1235
    (codes "ifdef A\nX ::= \nendif\nF\\\n?=a #\noverride\\\n= |#-g", ChangeValue Every (codes "F") (edits.Remove (codes "a")), Accepted 1 1 (span 26 28 [] ∷ []) (Becomes (codes "ifdef A\nX ::= \nendif\nF\\\n?=#\noverride\\\n= |#-g"))) ∷  -- more-1238
    (codes ".RECIPEPREFIX = >\nF:= -g a -g \\\r\n a a:b\nF:= =\\\n x=1 \\\na\\\n $\\\n -g# \\\n d", ChangeValue Every (codes "F") (edits.Remove (codes "a")), Accepted 2 2 (span 24 26 [] ∷ span 29 35 [] ∷ span 51 55 [] ∷ []) (Becomes (codes ".RECIPEPREFIX = >\nF:= -g -g a:b\nF:= =\\\n x=1\\\n $\\\n -g# \\\n d"))) ∷  -- more-1239
    (codes "override ::= -O2\\\nb\\\n\ta -O2 -g \nd: ;\nF = | \\\n-g", ChangeValue Every (codes "F") (edits.Remove (codes "|")), Accepted 1 1 (span 41 45 [] ∷ []) (Becomes (codes "override ::= -O2\\\nb\\\n\ta -O2 -g \nd: ;\nF = -g"))) ∷  -- more-1241
    (codes "F\\\r\n:= Ã©\r\nifdef A\r\nX= x=1 $\\ \r\nendif\r\n", ChangeValue Every (codes "F") (edits.Append (codes "$(a b) a")), Accepted 1 1 (span 9 9 (codes " $(a b) a") ∷ []) (Becomes (codes "F\\\r\n:= Ã© $(a b) a\r\nifdef A\r\nX= x=1 $\\ \r\nendif\r\n"))) ∷  -- more-1243
    (codes "ifdef A\nX= x$(a  b) -g \\\na\nendif\nX\\\n= \\\r\n # c\nF\\\n=-g x=1\\\n\tb \n", ChangeValue Every (codes "X") (edits.Append (codes "$(t -g)")), Accepted 2 2 (span 26 26 (codes " $(t -g)") ∷ span 42 42 (codes "$(t -g)") ∷ []) (Becomes (codes "ifdef A\nX= x$(a  b) -g \\\na $(t -g)\nendif\nX\\\n= \\\r\n $(t -g)# c\nF\\\n=-g x=1\\\n\tb \n"))) ∷  -- more-1244
    (codes ".RECIPEPREFIX = >\na.b = a $(t \\\n -\n) \nF\\\n= a#\nF\\\n::=|#-g\n", ChangeValue Every (codes "F") (edits.Remove (codes "$(s (b) a)")), NotMade 0 Absent) ∷  -- more-1246
    (codes "export F +=b b# a \\\\\n", ChangeValue Every (codes "F") (edits.Add (codes "$x")), Accepted 1 1 (span 14 14 (codes " $x") ∷ []) (Becomes (codes "export F +=b b $x# a \\\\\n"))) ∷  -- more-1247
    (codes ".RECIPEPREFIX ?= >\r\nc c:\r\n>true\r\n>>a", ChangeValue Every (codes ".RECIPEPREFIX") (edits.Remove (codes "b")), NotMade 0 Reserved) ∷  -- more-1250
    (codes ">ifdef := 1 ", ChangeValue Every (codes ">ifdef") (edits.Remove (codes "1")), NotMade 1 (BadArgument field.Name)) ∷  -- more-1251
    (codes "F?=x$(a  b) \r\nifdef A\r\noverride X = -g b b |#\r\nelse\r\nF\\\r\n= $(A -g)\r\nendif\r\nendef\\\r\n\r\nX ?= | -g b \r\n", ChangeValue Every (codes "X") (edits.Add (codes "|")), NotMade 0 Already) ∷  -- more-1255
    (codes "X ?= = a \\\n    b\\\n -O2 |#\n", ChangeValue Every (codes "X") (edits.Append (codes "a $(t -g)")), Accepted 1 1 (span 24 24 (codes " a $(t -g)") ∷ []) (Becomes (codes "X ?= = a \\\n    b\\\n -O2 | a $(t -g)#\n"))) ∷  -- more-1257
    (codes ".RECIPEPREFIX = >\n\ta.b!=${u \t\\\n", ChangeValue Every (codes "a.b") (edits.Remove (codes "-g")), NotMade 0 Absent) ∷  -- more-1258
    (codes "ifdef A\nF =a:b a\\  \\\r\n a $(a\tb)\nendif", ChangeValue Every (codes "+") (edits.Remove (codes "\\#")), NotMade 0 (BadArgument field.Name)) ∷  -- more-1260
    (codes "overre override = a \n\n\t$", ChangeValue Every (codes "X") (edits.Add (codes "-g")), NotMade 0 NoSuch) ∷  -- more-1261
    (codes "X:= \nc&: # c\n\ty\r\n\trm -rf x\nx.o: a | b\n", ChangeValue Every (codes "X") (edits.Append (codes "$(A -g)")), Accepted 1 1 (span 4 4 (codes "$(A -g)") ∷ []) (Becomes (codes "X:= $(A -g)\nc&: # c\n\ty\r\n\trm -rf x\nx.o: a | b\n"))) ∷  -- more-1263
    (codes "X != \r\n", ChangeValue Every (codes "X") (edits.Set []), Accepted 1 1 (span 5 5 [] ∷ []) (Becomes (codes "X != \r\n"))) ∷  -- more-1266
    (codes "X += # c\nd: a\n\ta # b\n\t# n\n\t\ttrue\n : \\\n  -x_9 !=\\\n\t\nF?= ; \\\n \\\n = \nx.o:: a | b\n\trm -rf x\n\t\n\t# n\n", ChangeValue Every (codes "X") (edits.Remove (codes "a$ b")), NotMade 0 Absent) ∷  -- more-1268
    (codes " \r\n", ChangeValue Every (codes "F") (edits.Remove (codes "$(t -g)")), NotMade 0 NoSuch) ∷  -- more-1271
    (codes "F::= -g \\\n$(a b) \\\r\n = \\\n    | \\\n    -O2\nd:: a | b\n\t\ttrue\nc: a\n>\n>true", ChangeValue Every (codes "F") (edits.Remove (codes "$(s (b) a)")), NotMade 0 Absent) ∷  -- more-1273
    (codes "X ?= a\r\noverride ::=\r\n", ChangeValue Every (codes "override") (edits.Remove (codes "$(s (b) a)")), NotMade 0 Absent) ∷  -- more-1281
    (codes ".RECIPEPREFIX = >\r\nc&: ;\n\ta\n\t\ttrue\n\trm -f x\n\t\ttrue\n", ChangeValue Every (codes "F") (edits.Set (codes "$(s (b) a)")), NotMade 0 NoSuch) ∷  -- more-1282
    (codes "override\\\r\n?= $ a\\  #\nF\\\n= \\ -g \\\n \\\n a  $$#\n", ChangeValue Every (codes "F") (edits.Set (codes "b")), Accepted 1 1 (span 27 43 (codes "b") ∷ []) (Becomes (codes "override\\\r\n?= $ a\\  #\nF\\\n= b#\n"))) ∷  -- more-1283
    (codes "X !=-O2 $(t \\\n -g)\\\n $(a\tb) a\ta \n", ChangeValue Every (codes "X") (edits.Set []), Accepted 1 1 (span 4 32 [] ∷ []) (Becomes (codes "X !=\n"))) ∷  -- more-1287
    (codes "#c \\\r\n d\n", ChangeValue Every (codes "X$ ") (edits.Add (codes "x=1")), NotMade 0 (BadArgument field.Name)) ∷  -- more-1292
    (codes "F:= a \\\r\n$(a\tb)\\\r\n | =\\\r\n\\\r\n$\\\r\n \r\noverride override ::=$  -g $(a\tb)\r\nifdef A\r\noverride ::= b  a#\r\nelse\r\na.b := $$ -g ;\\\r\n\t=# a \\\\\r\nendif", ChangeValue Every (codes "F") (edits.Append (codes "$(w a)")), Accepted 1 1 (span 33 33 (codes " $(w a)") ∷ []) (Becomes (codes "F:= a \\\r\n$(a\tb)\\\r\n | =\\\r\n\\\r\n$\\\r\n  $(w a)\r\noverride override ::=$  -g $(a\tb)\r\nifdef A\r\noverride ::= b  a#\r\nelse\r\na.b := $$ -g ;\\\r\n\t=# a \\\\\r\nendif"))) ∷  -- more-1293
    (codes "F::=$$ -g\nifdef A\noverride\\\n= x=1 a$  -g \nelse\nF =$#  | \\\n    b\nendif\nexport a.b = a:b \\\n \\\n b\t-O2\\\n\\\nb\n # c\nF =\t-O2\n", ChangeValue Every (codes "F") (edits.Set (codes "x=1")), Accepted 3 3 (span 4 9 (codes "x=1") ∷ span 50 63 (codes "x=1") ∷ span 113 116 (codes "x=1") ∷ []) (Becomes (codes "F::=x=1\nifdef A\noverride\\\n= x=1 a$  -g \nelse\nF =x=1\nendif\nexport a.b = a:b \\\n \\\n b\t-O2\\\n\\\nb\n # c\nF =\tx=1\n"))) ∷  -- more-1295
    (codes "a.b\\\r\n:= \t\r\nprivate\t-x_9 :::=; \\\r\n$\\\r\n  a\\ \\\r\n\t\\\r\n# c", ChangeValue Every (codes "a.b") (edits.Append (codes "-g")), Accepted 1 1 (span 10 10 (codes "-g") ∷ []) (Becomes (codes "a.b\\\r\n:= \t-g\r\nprivate\t-x_9 :::=; \\\r\n$\\\r\n  a\\ \\\r\n\t\\\r\n# c"))) ∷  -- more-1298
    []

answers_9 : map (λ row. account row.0 row.1) rows_9 ≡ map (λ row. row.2) rows_9
answers_9 = refl
