-- Edits with their answers. Made by `tests/definitions/edit_rows.py tests/cases/edits/words.tsv`.
use Rattle.std.proofs.Common.{◌≡◌, refl, ℕ, List, [], ◌∷◌, map, Some, None}
use Rattle.std.specs.Prelude.{codes}
use Rattle.mk_edit_language.specs.Edits.{Edit}
use Rattle.mk_edit_language.specs.Edits.{One, ChangeValue}
use Rattle.mk_edit_language.specs.Edits as edits
use Rattle.mk_edit_language.specs.declared.refusal.Refusal.TheVariants.{BadArgument, Reserved, RecipePrefix, NoSuch, Ambiguous, Absent, Already, OpenValue}
use Rattle.mk_edit_language.specs.declared.refusal.Field.TheVariants as field
use Rattle.mk_rows.proofs.edits.Outcomes.{account, Account, span, Becomes, Accepted, NotMade}

abbrev rows_1 : List (List ℕ × Edit × Account)
rows_1 =
    (codes "ifdef A\noverride != $$ ; #\nendif\n", ChangeValue (One None) (codes "override") (edits.Add (codes "\\\\a")), Accepted 1 1 (span 24 24 (codes " \\\\a") ∷ []) (Becomes (codes "ifdef A\noverride != $$ ; \\\\a #\nendif\n"))) ∷  -- more-0
    (codes "F := -g \\\n-O2\\\na:b # \\\n d\n", ChangeValue (One None) (codes "F") (edits.Add (codes "$x")), Accepted 1 1 (span 18 18 (codes " $x") ∷ []) (Becomes (codes "F := -g \\\n-O2\\\na:b $x # \\\n d\n"))) ∷  -- more-3
    (codes "F ?= # c\n", ChangeValue (One None) (codes "F") (edits.Add (codes "$(A -g)")), Accepted 1 1 (span 5 5 (codes "$(A -g)") ∷ []) (Becomes (codes "F ?= $(A -g)# c\n"))) ∷  -- more-11
    (codes "F !=${v a b a ${v a \\\n    b# a \\\\\n", ChangeValue (One None) (codes "F") (edits.Add (codes "$(s (b) a)")), NotMade 1 OpenValue) ∷  -- more-17
    (codes "include&:\r\n>x \\ y\r\n>rm -f x\r\nifdef A\r\nF = $\\\r\n -g a \\\\\r\n\t$# \r\nelse\r\nX\\\r\n= $(u a x=1 #\r\nendif", ChangeValue (One None) (codes "F") (edits.Add (codes "=")), Accepted 1 1 (span 54 54 (codes " =") ∷ []) (Becomes (codes "include&:\r\n>x \\ y\r\n>rm -f x\r\nifdef A\r\nF = $\\\r\n -g a \\\\ =\r\n\t$# \r\nelse\r\nX\\\r\n= $(u a x=1 #\r\nendif"))) ∷  -- more-20
    (codes "F ::= a \\\na \\\n    $(w \\\n a)\\\n\\  |#-g\nF = ; a:b -g\\\n a $(a b)\n", ChangeValue (One (Some 1)) (codes "F") (edits.Add (codes "$(w a)")), NotMade 1 Already) ∷  -- more-21
    (codes "a.b\\\n?= -g \noverride =a\\\n\t| \\\n    a:b\\\n\\\n-g# \\\n d\n", ChangeValue (One None) (codes "override") (edits.Add (codes "|")), NotMade 1 Already) ∷  -- more-41
    (codes ".RECIPEPREFIX = >\r\nF != = \\\r\n    a$\\ a -g \r\nc %.o: # c\r\n\tb\r\n\ta\r\nifdef A\r\nd: a | b\r\n\ttrue\r\n\ttrue\r\n\tx \\ y\r\n", ChangeValue (One None) (codes "X") (edits.Add (codes "$(a b)")), NotMade 1 NoSuch) ∷  -- more-43
    (codes "${g(} $(a b) &::  \nc: ; true\n\t\\\n\n\n\tifdef Q\nd::\nifdef A\na.b = b a \\ x=1 # \\\n d\nendif ", ChangeValue (One None) (codes "a.b") (edits.Add (codes "b")), NotMade 1 Already) ∷  -- more-49
    (codes ".RECIPEPREFIX = >\nF != b#-g", ChangeValue (One (Some 0)) (codes "F") (edits.Add (codes "b")), NotMade 1 NoSuch) ∷  -- more-58
    (codes "export a.b!= -g $\\ | ; a$\\\nifdef A\noverride F := $(t \\\n -g)\nendif\ninclude: a\n\tx \\ y\n\t a", ChangeValue (One None) (codes "a.b") (edits.Add (codes "$(t -g)")), Accepted 1 1 (span 34 34 (codes " $(t -g)") ∷ []) (Becomes (codes "export a.b!= -g $\\ | ; a$\\\nifdef A $(t -g)\noverride F := $(t \\\n -g)\nendif\ninclude: a\n\tx \\ y\n\t a"))) ∷  -- more-61
    (codes "a.b = b\\\n\\\n-O2\\\n\t-g \\\n \\\n -g\t\n", ChangeValue (One None) (codes "a.b") (edits.Add (codes "-O2")), NotMade 1 Already) ∷  -- more-62
    (codes "F\\\r\n!=-g a\\\\ \\\r\n $(w \\\r\n a)#-g\r\nifdef A\r\nF ::= -g\\\r\n\t-g\r\nelse\r\nF :=\\\r\n | $(u -O2\\\r\na:b \\\r\n| # \\\r\n d\r\nendif\r\nX!= -O2 \\\r\n \\\r\n b a | \r\nF+= a ", ChangeValue (One None) (codes "X") (edits.Add (codes "a")), NotMade 1 Already) ∷  -- more-71
    (codes "X +=|# \\\n d", ChangeValue (One (Some 0)) (codes "override") (edits.Add (codes "$(a b)")), NotMade 1 NoSuch) ∷  -- more-75
    (codes "\\\n-x_9\\\n!= -include2 \\$x\t$\\\r\n# x ; y : z = 1\noverride := a:b\n", ChangeValue (One None) (codes "-x_9") (edits.Add (codes "a")), NotMade 1 OpenValue) ∷  -- more-85
    (codes "F\\\n:= $(u\ta | # c\noverride= $(w \\\n a)\t$(a b) -g\nd&: ; true\n\t>a\nendif\n\t", ChangeValue (One None) (codes "override") (edits.Add (codes "-g")), NotMade 1 Already) ∷  -- more-89
    (codes "c a\r\n>>a\n# \\\n", ChangeValue (One None) (codes "X$ ") (edits.Add (codes "a$ b")), NotMade 1 (BadArgument field.Name)) ∷  -- more-96
    (codes "F\\\n::= -g  a:b a\n", ChangeValue (One (Some 0)) (codes "F") (edits.Add (codes "$(a b)")), NotMade 1 NoSuch) ∷  -- more-107
    (codes "F := $(w \\\n a) x=1 a\\ \nF\\\n::= b", ChangeValue (One (Some 2)) (codes "F") (edits.Add (codes "b")), NotMade 1 Already) ∷  -- more-108
    (codes ":!?\t\\\r\n)\\$}) \r\noverride\\\r\n=a |# a \\\\\r\n", ChangeValue (One None) (codes "override") (edits.Add (codes "-g")), Accepted 1 1 (span 30 30 (codes " -g") ∷ []) (Becomes (codes ":!?\t\\\r\n)\\$}) \r\noverride\\\r\n=a | -g# a \\\\\r\n"))) ∷  -- more-110
    (codes " \n\t \n", ChangeValue (One None) (codes "F") (edits.Add (codes "b")), NotMade 1 NoSuch) ∷  -- more-127
    (codes "c: a\r\n\t\r\n\ttrue \\\r\n\ttrue\r\n\ta\\\r\n b\r\ninclude: ; true\r\n\ta\r\nifdef A\r\n\t# n\r\nF :=; \\\r\n;\\\r\n\\\r\na# \\\r\n d\r\nc: # c\r\nelse\r\n>true\r\n", ChangeValue (One (Some 4294967295)) (codes "F") (edits.Add (codes "$(A -g)")), NotMade 1 NoSuch) ∷  -- more-143
    (codes "X += a $(a\tb) $  b \nifdef A\noverride X\\\n!=$(a\tb)\\\n\\ \\\r\n |\\\n\\\n= -O2\nendif\n", ChangeValue (One None) (codes "Y!") (edits.Add (codes "-O2")), NotMade 1 (BadArgument field.Name)) ∷  -- more-144
    (codes "F\\\n= $(a b) -g \\\n$(a b) ", ChangeValue (One None) (codes "F") (edits.Add (codes "a")), Accepted 1 1 (span 23 23 (codes " a") ∷ []) (Becomes (codes "F\\\n= $(a b) -g \\\n$(a b) a "))) ∷  -- more-148
    (codes "F = ; b\nd: ;\nexport F = ;\n\t \nc: a | b\n>ifdef Q\nd&: ; true\n# n\nelse\n", ChangeValue (One (Some 1)) (codes "F") (edits.Add (codes "a$ b")), Accepted 1 1 (span 7 7 (codes " a$ b") ∷ []) (Becomes (codes "F = ; b a$ b\nd: ;\nexport F = ;\n\t \nc: a | b\n>ifdef Q\nd&: ; true\n# n\nelse\n"))) ∷  -- more-150
    (codes "override F ?=# \\\r\n d\r\n", ChangeValue (One None) (codes "F") (edits.Add (codes "a$ ")), NotMade 1 (BadArgument field.Word)) ∷  -- more-155
    (codes ".RECIPEPREFIX = >\nF=  ;\\\n\t$$\\\n\\\na\nifdef A\na.b+= ; b\\\n\\\n-O2\\\n \nendif\nifdef A\nF\\\n+= \\\r\n ;\\\n= -g# c\nelse\nF\\\n+= a:b $$ \\\n# c\nendif\n", ChangeValue (One None) (codes "a.b") (edits.Add (codes "a\r")), NotMade 1 (BadArgument field.Word)) ∷  -- more-157
    (codes "x.o::\n\n\t a\n", ChangeValue (One (Some 2)) (codes "F") (edits.Add (codes "b")), NotMade 1 NoSuch) ∷  -- more-158
    (codes ".RECIPEPREFIX = >\nF=-g\\\n\\\n$(a b) a$\\\nF = # c\n", ChangeValue (One None) (codes "F") (edits.Add (codes "$")), NotMade 1 (BadArgument field.Word)) ∷  -- more-164
    (codes "F\\\n:= -g#-g\n.RECIPEPREFIX := t\nc:: ; true\n\t a\nifdef A\n", ChangeValue (One None) (codes "F") (edits.Add (codes "a")), Accepted 1 1 (span 8 8 (codes " a") ∷ []) (Becomes (codes "F\\\n:= -g a#-g\n.RECIPEPREFIX := t\nc:: ; true\n\t a\nifdef A\n"))) ∷  -- more-176
    (codes "a.b\\\n+= = ; \\ b\t$(s (b) a)\nd:\noverride F+= a  \\  a a\\\n$  \n", ChangeValue (One None) (codes "F") (edits.Add (codes "$(a b)")), Accepted 1 1 (span 56 56 (codes " $(a b)") ∷ []) (Becomes (codes "a.b\\\n+= = ; \\ b\t$(s (b) a)\nd:\noverride F+= a  \\  a a\\\n$  $(a b) \n"))) ∷  -- more-179
    (codes "X::=a:b\r\nifdef A\r\nF= b \\\r\n -g $(s (b) a) a \r\nendif\r\nifdef A\r\nX != \\\r\n    -O2\\\r\nb $(s (b) a) -O2 \\\r\na\r\nendif\r\noverride X+= \r\n", ChangeValue (One None) (codes "F") (edits.Add (codes "a\\ b")), Accepted 1 1 (span 42 42 (codes " a\\ b") ∷ []) (Becomes (codes "X::=a:b\r\nifdef A\r\nF= b \\\r\n -g $(s (b) a) a a\\ b \r\nendif\r\nifdef A\r\nX != \\\r\n    -O2\\\r\nb $(s (b) a) -O2 \\\r\na\r\nendif\r\noverride X+= \r\n"))) ∷  -- more-184
    (codes "F += -O2  |\noverride := b \\\n \\\n a\noverride\\\n:= a$\\\\\n\t; -g#\n", ChangeValue (One (Some 1)) (codes "override") (edits.Add (codes "\\#")), Accepted 1 1 (span 33 33 (codes " \\#") ∷ []) (Becomes (codes "F += -O2  |\noverride := b \\\n \\\n a \\#\noverride\\\n:= a$\\\\\n\t; -g#\n"))) ∷  -- more-190
    (codes "F = \\\r\n -g\\\n a:b -O2\nc: a | b\na.b\\\n+= b  b $(s (b) a) b \\\r\n |\n", ChangeValue (One (Some 2)) (codes "a.b") (edits.Add (codes "b")), NotMade 1 NoSuch) ∷  -- more-195
    (codes "F\\\n:=  = -g -O2\nX= b # c\nifdef A\nF\\\n= a\t\nendif\n", ChangeValue (One (Some 0)) (codes "X") (edits.Add (codes "a$ b")), NotMade 1 NoSuch) ∷  -- more-196
    (codes ".RECIPEPREFIX = >\nF != -O2 -g  $(A -g) #-g\nx.o c: ;\n\tsay \"q\"\nifdef A\n\ttrue\nc: a", ChangeValue (One None) (codes "X") (edits.Add (codes "x=1")), NotMade 1 NoSuch) ∷  -- more-198
    (codes "F\\\n= $(t \\\n -g) \n", ChangeValue (One None) (codes "F") (edits.Add (codes "a:b")), Accepted 1 1 (span 15 15 (codes " a:b") ∷ []) (Becomes (codes "F\\\n= $(t \\\n -g) a:b \n"))) ∷  -- more-199
    (codes "F\\\n=a b \nX=$(a b)  $(w \\\n a)\nF= $  \\\n-O2\nd: a | b\nifeq (a,b)\n\ta # b\n\t>a\n\tx \\ y\nF\\\n?=$(a b) -g# \\\n d\\", ChangeValue (One (Some 1)) (codes "F") (edits.Add (codes "x$(a  b)")), Accepted 1 1 (span 7 7 (codes " x$(a  b)") ∷ []) (Becomes (codes "F\\\n=a b x$(a  b) \nX=$(a b)  $(w \\\n a)\nF= $  \\\n-O2\nd: a | b\nifeq (a,b)\n\ta # b\n\t>a\n\tx \\ y\nF\\\n?=$(a b) -g# \\\n d\\"))) ∷  -- more-203
    (codes ".RECIPEPREFIX = >\nF = b\n%.o: ; true\n\ttrue\n\ta\\\n>b\n\ttrue\noverride !=\n", ChangeValue (One None) (codes "override") (edits.Add (codes "$ b")), Accepted 1 1 (span 66 66 (codes "$ b") ∷ []) (Becomes (codes ".RECIPEPREFIX = >\nF = b\n%.o: ; true\n\ttrue\n\ta\\\n>b\n\ttrue\noverride !=$ b\n"))) ∷  -- more-216
    (codes "F= | $(s (b) a)# \\\r\n d\r\n", ChangeValue (One None) (codes "F") (edits.Add (codes "x=1")), Accepted 1 1 (span 15 15 (codes " x=1") ∷ []) (Becomes (codes "F= | $(s (b) a) x=1# \\\r\n d\r\n"))) ∷  -- more-221
    (codes "override F\\\n= a\nexport F= b $(A -g) \\\r\n $(w \\\n a)  b\n\t#\0\n", ChangeValue (One (Some 2)) (codes "F") (edits.Add (codes "$(s (b) a)")), Accepted 1 1 (span 52 52 (codes " $(s (b) a)") ∷ []) (Becomes (codes "override F\\\n= a\nexport F= b $(A -g) \\\r\n $(w \\\n a)  b $(s (b) a)\n\t#\0\n"))) ∷  -- more-222
    (codes "c: # c\n# n\nd:\n\t# n\n%.c %.c\t&: ifdef !=  \\\r\n #\\\\\\\n\na.b = $(u b#-g\nifdef A\nF=\\\n -g \\\n \\\n a:b\\\n\t\\# a\\\n\tb \nelse\nX= \nendif\n", ChangeValue (One None) (codes "F") (edits.Add (codes "-g")), NotMade 1 Already) ∷  -- more-227
    (codes "\\\nfoo : \\\n  b \nc:\nc&: a | b\n>t\n>a # b\n>a\\\n>b\nifeq (a,b)\nc: # c\n\ttrue\n\trm -rf x\n# n\nexport F = $$ b\\\n a ;\nx.o:: # c\n\tb\n", ChangeValue (One None) (codes "F") (edits.Add (codes "x$(a  b)")), Accepted 1 1 (span 104 104 (codes " x$(a  b)") ∷ []) (Becomes (codes "\\\nfoo : \\\n  b \nc:\nc&: a | b\n>t\n>a # b\n>a\\\n>b\nifeq (a,b)\nc: # c\n\ttrue\n\trm -rf x\n# n\nexport F = $$ b\\\n a ; x$(a  b)\nx.o:: # c\n\tb\n"))) ∷  -- more-228
    (codes "F = |  -g x=1# a \\\\\na.b\\\n?= -g a \\\n    a\\ # \\\n d\nc: ; true\n\ta\nifeq (a,b)\n\tb\n\t \n", ChangeValue (One None) (codes "F") (edits.Add (codes "x$(a  b)")), Accepted 1 1 (span 13 13 (codes " x$(a  b)") ∷ []) (Becomes (codes "F = |  -g x=1 x$(a  b)# a \\\\\na.b\\\n?= -g a \\\n    a\\ # \\\n d\nc: ; true\n\ta\nifeq (a,b)\n\tb\n\t \n"))) ∷  -- more-232
    (codes "a.b = a# \\\r\n d\r\nCC !=\t\\##\r\nd:\r\n\ttrue\r\n\ttrue\r\n\t a\r\nX = Ã©\r\nF= -O2 $x | b\r\n", ChangeValue (One None) (codes "CC") (edits.Add (codes "\\#")), NotMade 1 Already) ∷  -- more-237
    (codes "X\\\n!= \n", ChangeValue (One None) (codes "X") (edits.Add (codes "b")), Accepted 1 1 (span 6 6 (codes "b") ∷ []) (Becomes (codes "X\\\n!= b\n"))) ∷  -- more-240
    (codes ".PHONY $(a b) &:: %.c %.o\t$(f {) # c\r\nF != a\ta\t-O2 -O2 a # \\\r\n d\r\n", ChangeValue (One None) (codes "F") (edits.Add (codes "$(s (b) a)")), Accepted 1 1 (span 56 56 (codes " $(s (b) a)") ∷ []) (Becomes (codes ".PHONY $(a b) &:: %.c %.o\t$(f {) # c\r\nF != a\ta\t-O2 -O2 a $(s (b) a) # \\\r\n d\r\n"))) ∷  -- more-243
    (codes "c: a\n\t\ttrue\n\ttrue\n\tt\n\tx \\ y\nF\\\n+= $\\\\\n\t${c}", ChangeValue (One None) (codes "F") (edits.Add (codes "a$ b")), NotMade 1 OpenValue) ∷  -- more-258
    (codes ".RECIPEPREFIX = >\r\nc: ; true\r\nF += -g b\\\r\na #\r\n>true\r\n># n\r\nX ::= \\\r\n -O2\\\r\n= \\\r\n    -O2 \r\n", ChangeValue (One None) (codes "F") (edits.Add (codes "-g")), NotMade 1 Already) ∷  -- more-261
    (codes "F\\\n::= -O2\\\n $(s (b) a)\\\n\\\n# c\n", ChangeValue (One None) (codes "F") (edits.Add (codes "$(s (b) a)")), NotMade 1 Already) ∷  -- more-266
    []

answers_1 : map (λ row. account row.0 row.1) rows_1 ≡ map (λ row. row.2) rows_1
answers_1 = refl

abbrev rows_2 : List (List ℕ × Edit × Account)
rows_2 =
    (codes "F= b\\\n x$(a  b) -g # a \\\\\n", ChangeValue (One None) (codes "F") (edits.Add (codes "-O2")), Accepted 1 1 (span 18 18 (codes " -O2") ∷ []) (Becomes (codes "F= b\\\n x$(a  b) -g -O2 # a \\\\\n"))) ∷  -- more-271
    (codes "a.b= -g -g \\\n-O2 \nF =-g  \\\\\\\\\nF ::= a x$(a  b) \\\n$\\\nb\\\n x=1\na.b\\\n=| a:b\n", ChangeValue (One (Some 4294967295)) (codes "a.b") (edits.Add (codes "-O2")), NotMade 1 NoSuch) ∷  -- more-275
    (codes "X +=\\\nb \noverride += b \nF!= $x\noverride := b | b # a \\\\\n", ChangeValue (One (Some 4294967295)) (codes "F") (edits.Add (codes "$x")), NotMade 1 NoSuch) ∷  -- more-278
    (codes "ifdef A\r\nexport F\\\r\n:=$(w \\\r\n a)\t$x\\\r\nb#-g\r\nendif\r\na.b::==", ChangeValue (One None) (codes "F") (edits.Add (codes "$(w a)")), NotMade 1 Already) ∷  -- more-279
    (codes "override F\\\n+= a\\$ \\\n    -g\nF\\\n=  #\nF\\\n= -g Ã© \\\r\n \no-$(a b)\\\n\t\\\r\n:::= a \nifdef A\nF\\\n:= b \\\n    $# b\nelse\nexport override?= b x=1 -g\\\n\tb# c\nendif\n", ChangeValue (One None) (codes "override") (edits.Add (codes "$(w a)")), Accepted 1 1 (span 136 136 (codes " $(w a)") ∷ []) (Becomes (codes "override F\\\n+= a\\$ \\\n    -g\nF\\\n=  #\nF\\\n= -g Ã© \\\r\n \no-$(a b)\\\n\t\\\r\n:::= a \nifdef A\nF\\\n:= b \\\n    $# b\nelse\nexport override?= b x=1 -g\\\n\tb $(w a)# c\nendif\n"))) ∷  -- more-282
    (codes "override\\\n= x=1\t=\tx=1 a \na.b += # c\nendef :::=", ChangeValue (One (Some 2)) (codes "endef") (edits.Add (codes "-g")), NotMade 1 NoSuch) ∷  -- more-286
    (codes "ifdef A\nX\\\n::=-O2\nendif\n", ChangeValue (One None) (codes "X") (edits.Add (codes "$ b")), Accepted 1 1 (span 17 17 (codes " $ b") ∷ []) (Becomes (codes "ifdef A\nX\\\n::=-O2 $ b\nendif\n"))) ∷  -- more-288
    (codes "F\\\n+== ;\n", ChangeValue (One None) (codes "F") (edits.Add (codes "=")), NotMade 1 Already) ∷  -- more-291
    (codes "ifdef A\nF+= \\ b x$(a  b) \\ b\\\n\\\n;# c\nendif\nX!= -g\nF ::= \\\\ \\\n \\\n $(a b) -g ${v a \nF !=\\\n a\nc: ; true\n>a\n>>a\n>x \\ y\n", ChangeValue (One (Some 4294967295)) (codes "X") (edits.Add (codes "\\#")), NotMade 1 NoSuch) ∷  -- more-297
    (codes "include: a\na.b:=-g ; # a \\\\\n\t# n\nd d:\n>\n>say \"q\"\n", ChangeValue (One None) (codes "X") (edits.Add (codes "a")), NotMade 1 NoSuch) ∷  -- more-300
    (codes "F ?= $(s (b) a) b\\\n\\\n\noverride F\\\n= \n", ChangeValue (One None) (codes "F") (edits.Add (codes "-O2")), NotMade 1 (Ambiguous 2)) ∷  -- more-301
    (codes "F= a\\\n\t-g\n", ChangeValue (One None) (codes "F") (edits.Add (codes "x=1")), Accepted 1 1 (span 9 9 (codes " x=1") ∷ []) (Becomes (codes "F= a\\\n\t-g x=1\n"))) ∷  -- more-307
    (codes "c: # c\n\ttrue\n\ta # b\ninclude: a\n>\n>true\nc:: a | b\nF ?= \\\n    -O2 b x$(a  b) \\\\\nc: a\n\ta\n\ttrue\n\ttrue\n", ChangeValue (One None) (codes "a\\=") (edits.Add (codes "$(s (b) a)")), NotMade 1 (BadArgument field.Name)) ∷  -- more-310
    (codes "override!=  #\nove+rride:= #\n", ChangeValue (One None) (codes "ove+rride") (edits.Add (codes "-g")), NotMade 1 (BadArgument field.Name)) ∷  -- more-315
    (codes ".RECIPEPREFIX = >\nF:=; # c\n", ChangeValue (One (Some 2)) (codes "F") (edits.Add (codes ";")), NotMade 1 NoSuch) ∷  -- more-320
    (codes "endef#c\nc:\noverride\\\n= -g\nifdef A\nF += b# c\nelse\nF= b\t# \\\n d\nendif\n", ChangeValue (One (Some 1)) (codes "F") (edits.Add (codes "$x")), Accepted 1 1 (span 40 40 (codes " $x") ∷ []) (Becomes (codes "endef#c\nc:\noverride\\\n= -g\nifdef A\nF += b $x# c\nelse\nF= b\t# \\\n d\nendif\n"))) ∷  -- more-341
    (codes "override != x=1 \\\\\n\ta -g \n.RECIPEPREFIX != 2 3 %.o%.c\nc: a\n \n\trm -f x\n# n\n", ChangeValue (One (Some 0)) (codes "override") (edits.Add (codes "$\\x")), NotMade 1 RecipePrefix) ∷  -- more-342
    (codes "c: a\n\ta # b\n\ta \\\n\tb\n\tx \\ y\nF!= -O2\t-g # a \\\\", ChangeValue (One (Some 4294967295)) (codes "F") (edits.Add (codes "$x")), NotMade 1 NoSuch) ∷  -- more-355
    (codes "%.o : foo  $(p #) \nF = -g a\\$\\\n\\\n-O2\nifdef A\na.b\\\n:= a b -g \nendif\nx.o&: # c\nelse\n\ta\n\tt\n", ChangeValue (One (Some 0)) (codes "a.b") (edits.Add (codes "x$(a  b)")), NotMade 1 NoSuch) ∷  -- more-357
    (codes "ifdef A\na.b!= $(w \\\n a)\\\n\\\n-O2 =# \\\n d\nelse\nX =\\# \\\n    \nendif\nc:: a\n\ttrue\nifdef A\n\tifdef Q\n\tb\nX\\\n?= b \n", ChangeValue (One (Some 2)) (codes "X") (edits.Add (codes "-O2")), Accepted 1 1 (span 102 102 (codes " -O2") ∷ []) (Becomes (codes "ifdef A\na.b!= $(w \\\n a)\\\n\\\n-O2 =# \\\n d\nelse\nX =\\# \\\n    \nendif\nc:: a\n\ttrue\nifdef A\n\tifdef Q\n\tb\nX\\\n?= b -O2 \n"))) ∷  -- more-360
    (codes "c:\n\ttrue\n\ttrue \\\r\n\ttrue\nF\\\n=# c\nd:: ;\n\t\n\t\ttrue\n", ChangeValue (One None) (codes "F") (edits.Add (codes "\\#")), Accepted 1 1 (span 28 28 (codes "\\#") ∷ []) (Becomes (codes "c:\n\ttrue\n\ttrue \\\r\n\ttrue\nF\\\n=\\## c\nd:: ;\n\t\n\t\ttrue\n"))) ∷  -- more-363
    (codes "c:\n>true \\\r\n\ttrue\n>ifdef Q\n>rm -rf x\nF\\\n+= -g# a \\\\", ChangeValue (One None) (codes "F") (edits.Add (codes "-g")), NotMade 1 Already) ∷  -- more-371
    (codes "F = -g\nx.o:: a\nendif\n\ttrue\nc: a | b\n\ta\nelse\n\ta # b\n%.o:: a | b\n\n>true\nX =-g -g a \\ -O2\n", ChangeValue (One None) (codes "X") (edits.Add (codes "$ b")), Accepted 1 1 (span 86 86 (codes " $ b") ∷ []) (Becomes (codes "F = -g\nx.o:: a\nendif\n\ttrue\nc: a | b\n\ta\nelse\n\ta # b\n%.o:: a | b\n\n>true\nX =-g -g a \\ -O2 $ b\n"))) ∷  -- more-375
    (codes "F =\\\n $(t \\\n -g) a# \\\n d\n", ChangeValue (One None) (codes "F") (edits.Add (codes "=")), Accepted 1 1 (span 18 18 (codes " =") ∷ []) (Becomes (codes "F =\\\n $(t \\\n -g) a =# \\\n d\n"))) ∷  -- more-385
    (codes "d&:\nendif\n\trm -f x\nX =$(t \\\n -g)\nc: a\n>true\nendif\n", ChangeValue (One (Some 4294967295)) (codes "X") (edits.Add (codes "|")), NotMade 1 NoSuch) ∷  -- more-389
    (codes "F ?= $\\ a -O2\tx=1\n", ChangeValue (One None) (codes "F") (edits.Add (codes ";")), Accepted 1 1 (span 17 17 (codes " ;") ∷ []) (Becomes (codes "F ?= $\\ a -O2\tx=1 ;\n"))) ∷  -- more-393
    (codes "F= # \\\n d\n", ChangeValue (One None) (codes "F") (edits.Add (codes ";")), Accepted 1 1 (span 3 3 (codes ";") ∷ []) (Becomes (codes "F= ;# \\\n d\n"))) ∷  -- more-394
    (codes "override X\\\r\n?=-O2 a\\\n\\\na:b\n", ChangeValue (One None) (codes "X") (edits.Add (codes "-g")), Accepted 1 1 (span 27 27 (codes " -g") ∷ []) (Becomes (codes "override X\\\r\n?=-O2 a\\\n\\\na:b -g\n"))) ∷  -- more-399
    (codes "F := b#-g\r\nc: a | b\r\n# \\\r\n n\r\n\tx \\ y\r\n", ChangeValue (One None) (codes "F") (edits.Add (codes "b")), NotMade 1 Already) ∷  -- more-402
    (codes "X\\\r\n= ; \\\r\n \\\r\n ${c} \r\n", ChangeValue (One None) (codes "X") (edits.Add (codes "a")), Accepted 1 1 (span 20 20 (codes " a") ∷ []) (Becomes (codes "X\\\r\n= ; \\\r\n \\\r\n ${c} a \r\n"))) ∷  -- more-414
    (codes "define ?=\t# \r\nF =\\\n;\n\tfoo:: o-$(a b) :::= \\$x \\\\\\2 3", ChangeValue (One None) (codes "define") (edits.Add (codes "a\\ b")), Accepted 1 1 (span 10 10 (codes "a\\ b") ∷ []) (Becomes (codes "define ?=\ta\\ b# \r\nF =\\\n;\n\tfoo:: o-$(a b) :::= \\$x \\\\\\2 3"))) ∷  -- more-435
    (codes "include: a | b\r\n\ta # b\n# n\n\ta\\\\\nF= a$ \nF = a $$\\\n\t-g $x\nc: a | b\n \n \nc: ; true\n\trm \\rf x\n\ta\\\n>b\n\tx \\ y\n", ChangeValue (One (Some 1)) (codes "F") (edits.Add (codes "$x")), Accepted 1 1 (span 38 38 (codes " $x") ∷ []) (Becomes (codes "include: a | b\r\n\ta # b\n# n\n\ta\\\\\nF= a$  $x\nF = a $$\\\n\t-g $x\nc: a | b\n \n \nc: ; true\n\trm \\rf x\n\ta\\\n>b\n\tx \\ y\n"))) ∷  -- more-450
    (codes "F+= ; = $(A -g) \\\r\n -O2#\nc&: ;\n>x \\ y\n>b\n>>a\nF:= x=1 -g b \\\n \\\n \noverride F\\\n= |\\\n\\\n= =\nifdef A\nF = -g -g \\\n    ${v a # c\nendif\n", ChangeValue (One (Some 3)) (codes "F") (edits.Add (codes "a$ b")), Accepted 1 1 (span 87 87 (codes " a$ b") ∷ []) (Becomes (codes "F+= ; = $(A -g) \\\r\n -O2#\nc&: ;\n>x \\ y\n>b\n>>a\nF:= x=1 -g b \\\n \\\n \noverride F\\\n= |\\\n\\\n= = a$ b\nifdef A\nF = -g -g \\\n    ${v a # c\nendif\n"))) ∷  -- more-454
    (codes "X ::= a:b \\\n \\\n a:b $(w \\\n a) b\\\n= #-g\n\nX = \noverride  export A +=$(a b) #\0\n", ChangeValue (One (Some 1)) (codes "X") (edits.Add (codes "\\\\a")), Accepted 1 1 (span 34 34 (codes " \\\\a") ∷ []) (Becomes (codes "X ::= a:b \\\n \\\n a:b $(w \\\n a) b\\\n= \\\\a #-g\n\nX = \noverride  export A +=$(a b) #\0\n"))) ∷  -- more-462
    (codes "F?= a$\\  \\\\\\\\ -g\\\n b | \noverride := -O2 \\\r\n $(u\\\n b# a \\\\\nc: # c\n# n\n>\ttrue\n>true", ChangeValue (One None) (codes "override") (edits.Add (codes "b")), NotMade 1 OpenValue) ∷  -- more-464
    (codes "include&: ;\r\n>rm -rf x\r\n>\r\n>rm -rf x\r\nX :=$\\# a \\\\\r\nF= -O2 b \\\r\n x=1 b a#-g\r\noverride X:= x=1\r\n", ChangeValue (One (Some 2)) (codes "X") (edits.Add (codes "$(w a)")), Accepted 1 1 (span 93 93 (codes " $(w a)") ∷ []) (Becomes (codes "include&: ;\r\n>rm -rf x\r\n>\r\n>rm -rf x\r\nX :=$\\# a \\\\\r\nF= -O2 b \\\r\n x=1 b a#-g\r\noverride X:= x=1 $(w a)\r\n"))) ∷  -- more-468
    (codes "ifdef A\noverride= -g \\\na#\nelse\nF ?= -O2 $(A -g)\\\n$(a b)  $# \nendif\nifdef A\noverride = a\\\n $\\ \\\n-g\nelse\nF\\\n::= ; Ã© $(u = #-g\nendif\n", ChangeValue (One (Some 1)) (codes "F") (edits.Add (codes "\t")), NotMade 1 (BadArgument field.Word)) ∷  -- more-478
    (codes "F\\\n= $$ \\\\\\\\ -g\nF\\\n+=\\\n\\\na $(a\tb) \nX = \n", ChangeValue (One None) (codes "X") (edits.Add (codes "a")), Accepted 1 1 (span 39 39 (codes "a") ∷ []) (Becomes (codes "F\\\n= $$ \\\\\\\\ -g\nF\\\n+=\\\n\\\na $(a\tb) \nX = a\n"))) ∷  -- more-504
    (codes "F\\\r\n!= \\\n    a |\\\n\\\n|#-g\n", ChangeValue (One None) (codes "F") (edits.Add (codes "|")), NotMade 1 Already) ∷  -- more-510
    (codes "F+= $\\ -O2# a \\\\\r\nF = = \r\na.b ::=b -g -g#-g", ChangeValue (One None) (codes "a.b") (edits.Add (codes "a\\ b")), Accepted 1 1 (span 40 40 (codes " a\\ b") ∷ []) (Becomes (codes "F+= $\\ -O2# a \\\\\r\nF = = \r\na.b ::=b -g -g a\\ b#-g"))) ∷  -- more-511
    (codes "ifdef A\r\nF\\\r\n= a\r\nelse\r\noverride a.b = \\\r\n1# \\\r\n d\r\nendif\r\nc:: ; true\r\n\trm -f x\r\nc: a | b\r\n\tb\r\nc d:\r\n\t a\r\nX = = ;", ChangeValue (One None) (codes "F") (edits.Add (codes "${c}")), Accepted 1 1 (span 16 16 (codes " ${c}") ∷ []) (Becomes (codes "ifdef A\r\nF\\\r\n= a ${c}\r\nelse\r\noverride a.b = \\\r\n1# \\\r\n d\r\nendif\r\nc:: ; true\r\n\trm -f x\r\nc: a | b\r\n\tb\r\nc d:\r\n\t a\r\nX = = ;"))) ∷  -- more-518
    (codes ".RECIPEPREFIX = >\nexport F=${v a -g -O2\nF!= b -g  b \\\na$\\ \\\n    -O2\nc:\n\t# n\n", ChangeValue (One None) (codes "F") (edits.Add (codes "b")), NotMade 1 OpenValue) ∷  -- more-522
    (codes ".RECIPEPREFIX = >\nifdef A\na.b = a\nelse\nF ?= \\\r\n $(a b)# \\\n d\nendif\n \\\n\tdefine D\nd: a | b\n\tifdef Q\n\n\ta\\\n>b\n\ta\nF = -g \\\r\n b\\\n |\nendef\n", ChangeValue (One None) (codes "F") (edits.Add (codes "-g")), Accepted 1 1 (span 54 54 (codes " -g") ∷ []) (Becomes (codes ".RECIPEPREFIX = >\nifdef A\na.b = a\nelse\nF ?= \\\r\n $(a b) -g# \\\n d\nendif\n \\\n\tdefine D\nd: a | b\n\tifdef Q\n\n\ta\\\n>b\n\ta\nF = -g \\\r\n b\\\n |\nendef\n"))) ∷  -- more-531
    (codes "ifdef A\na.b =\nendif\na.b\\\n= a# c\nF\\\n= \\ b b\tb b ;# \\\n d\n", ChangeValue (One None) (codes "override") (edits.Add (codes "|")), NotMade 1 NoSuch) ∷  -- more-536
    (codes ".RECIPEPREFIX = >\r\n #c \\\r\n d\r\n\t#c \\\r\n d\r\nc:\r\n\tb\r\n\tt\r\nF += $$  ", ChangeValue (One None) (codes "X") (edits.Add (codes "\\#")), NotMade 1 NoSuch) ∷  -- more-537
    (codes "include::\n>true\n>a\n>ifdef Q\n%.o: a\n\tb\na.b\\\n!== a\n>q!= $(m \\\n n) b \n \\\n\t$(p #): ${g(} :$(s\\) ${c} # ", ChangeValue (One None) (codes ">q") (edits.Add (codes "|")), NotMade 1 (BadArgument field.Name)) ∷  -- more-542
    (codes ".RECIPEPREFIX = >\nifdef A\nF+=a $(t \\\n -g) a\\  -g \\\r\n = # a \\\\\nendif\nifdef A\noverride override::= =\nelse\nF =\\\n${v a a\\\\ $  = \\\r\n =# a \\\\\nendif\noverride X\\\n!= -g a -O2 \nifdef A\nexport F +=\\\n\\\nb \\\n\\# a\\\n b b \nelse\nF ::=-O2 -O2 \nendif\ninclude&: a\n>say \"q\"\n>a\n>true", ChangeValue (One (Some 3)) (codes "F") (edits.Add (codes "$")), NotMade 1 (BadArgument field.Word)) ∷  -- more-558
    (codes "F =-g ; \\\n    -g  =#-g\nX:=\t; \n", ChangeValue (One None) (codes "F") (edits.Add (codes "-g")), NotMade 1 Already) ∷  -- more-560
    (codes "F\\\n=-g -O2\\\n\\\nb ;\\\na\nd c: a | b\n\ttrue\n\t# n\nF\\\n?= -g  \n#\\\\\\\n\noverride F\\\n= -g $\\\n\t-g #-g\n", ChangeValue (One None) (codes "F") (edits.Add (codes "a$ b")), NotMade 1 (Ambiguous 3)) ∷  -- more-561
    (codes "F !=$$ \nd: ;\n\t\ttrue\n", ChangeValue (One None) (codes "F") (edits.Add (codes "$$")), NotMade 1 Already) ∷  -- more-567
    []

answers_2 : map (λ row. account row.0 row.1) rows_2 ≡ map (λ row. row.2) rows_2
answers_2 = refl

abbrev rows_3 : List (List ℕ × Edit × Account)
rows_3 =
    (codes "F?= \\\r\n -O2 def!ine\n -O2 a\r\n", ChangeValue (One None) (codes "F") (edits.Add (codes "-g")), Accepted 1 1 (span 19 19 (codes " -g") ∷ []) (Becomes (codes "F?= \\\r\n -O2 def!ine -g\n -O2 a\r\n"))) ∷  -- more-585
    (codes "F\\\n:= ;\\\n\\\na \\\r\n x$(a  b)\n", ChangeValue (One None) (codes "F") (edits.Add (codes "|")), Accepted 1 1 (span 25 25 (codes " |") ∷ []) (Becomes (codes "F\\\n:= ;\\\n\\\na \\\r\n x$(a  b) |\n"))) ∷  -- more-588
    (codes "F\\\n!= -g#", ChangeValue (One None) (codes "F") (edits.Add (codes "b")), Accepted 1 1 (span 8 8 (codes " b") ∷ []) (Becomes (codes "F\\\n!= -g b#"))) ∷  -- more-592
    (codes ".RECIPEPREFIX = >\nifdef A\nF?= \\\\\nendif\nifdef A\nF ::= b a \nelse\nF\\\n::= -g \\\n \\\n = | \\\n    | a$\\# a \\\\\nendif\nX = $\\\n\\\n -g\ta -g ;", ChangeValue (One (Some 1)) (codes "F") (edits.Add (codes "-O2")), Accepted 1 1 (span 32 32 (codes " -O2") ∷ []) (Becomes (codes ".RECIPEPREFIX = >\nifdef A\nF?= \\\\ -O2\nendif\nifdef A\nF ::= b a \nelse\nF\\\n::= -g \\\n \\\n = | \\\n    | a$\\# a \\\\\nendif\nX = $\\\n\\\n -g\ta -g ;"))) ∷  -- more-595
    (codes "$(s\\)\\\r\n: :${c}  | ; \\\\\tc -include2 \noverride\\\n= |\\\n\\\n-g | $(s (b) a) \\\n \\\n -g\nexport F != =\\\n# c\nd: a\n\tsay \"q\"\n\ta\\\n>b\n\t\n\t# n\n", ChangeValue (One None) (codes "override") (edits.Add (codes "-g")), NotMade 1 Already) ∷  -- more-597
    (codes "define \t= # \r\nF::= | \\\n    |\n.RECIPEPREFIX := t\nF =a\n", ChangeValue (One None) (codes "F") (edits.Add (codes "a$ ")), NotMade 1 (BadArgument field.Word)) ∷  -- more-600
    (codes ".RECIPEPREFIX = >\r\nc: ; true\r\n\t\r\n\tt\r\n\trm -rf x\r\n\t\r\noverride F != -O2 \\\r\n $(u -O2 #-g\r\nifdef A\r\nF += -g\r\nelse\r\na.b = -O2 ${c}#-g\r\nendif\r\nifdef A\r\noverride :=\r\nelse\r\nexport F = |\\\r\n\\\r\n$# \\\r\nb#-g\r\nendif\r\n", ChangeValue (One None) (codes "$(X)") (edits.Add (codes "-O2")), NotMade 1 (BadArgument field.Name)) ∷  -- more-602
    (codes "F ?= a -O2\\\n\\\n;\\\n\\\nb \\ # c\na.b =$$ a\\$# c\n\\\n\t\n", ChangeValue (One None) (codes "F") (edits.Add (codes "a")), NotMade 1 Already) ∷  -- more-619
    (codes "\\\n# \r\nexport F= = $$\ndefine E # c\nc: a\n\t>a\n\tifdef Q\nd: ; true\nendif\n\t a\nifeq (a,b)\n\t a\n", ChangeValue (One (Some 4294967295)) (codes "F") (edits.Add (codes ";")), NotMade 1 NoSuch) ∷  -- more-624
    (codes "F!= a:b \\\r\n = -g a ", ChangeValue (One None) (codes "F") (edits.Add (codes "b")), Accepted 1 1 (span 18 18 (codes " b") ∷ []) (Becomes (codes "F!= a:b \\\r\n = -g a b "))) ∷  -- more-626
    (codes ".RECIPEPREFIX = >\r\nexport F = -g\r\nd: ;\r\nF ?= b\\\n", ChangeValue (One (Some 1)) (codes "F") (edits.Add (codes "\\#")), Accepted 1 1 (span 32 32 (codes " \\#") ∷ []) (Becomes (codes ".RECIPEPREFIX = >\r\nexport F = -g \\#\r\nd: ;\r\nF ?= b\\\n"))) ∷  -- more-628
    (codes "\\\ndefine .RECIPEPREFIX\n.RECIPEPREFIX = >\nd: ;\n\t a\n\tb\n", ChangeValue (One None) (codes "override") (edits.Add (codes "-g")), NotMade 1 RecipePrefix) ∷  -- more-631
    (codes "override ::= #\n\\\n\noverride =\\\nx$(a  b)\nd::\n\t# n\n", ChangeValue (One None) (codes "F") (edits.Add (codes "-g")), NotMade 1 NoSuch) ∷  -- more-645
    (codes "X = \\\r\n b\nF ::= \\# \\\n    ; \\\r\n -O2 \\\n \\\n a:b# a \\\\", ChangeValue (One None) (codes "X") (edits.Add (codes "-g")), Accepted 1 1 (span 9 9 (codes " -g") ∷ []) (Becomes (codes "X = \\\r\n b -g\nF ::= \\# \\\n    ; \\\r\n -O2 \\\n \\\n a:b# a \\\\"))) ∷  -- more-654
    (codes "F\\\n?= b $(A -g) \\\r\n $$\nc&: a\n>true\n>x \\ y\n>\n>a # b\nF= \\\r\n -O2 $\\\n a \\\n    a#\\\n", ChangeValue (One (Some 2)) (codes "F") (edits.Add (codes "$(t -g)")), Accepted 1 1 (span 75 75 (codes " $(t -g)") ∷ []) (Becomes (codes "F\\\n?= b $(A -g) \\\r\n $$\nc&: a\n>true\n>x \\ y\n>\n>a # b\nF= \\\r\n -O2 $\\\n a \\\n    a $(t -g)#\\\n"))) ∷  -- more-658
    (codes ".RECIPEPREFIX = >\noverride X= -g\\\na\n#\nifdef A\nF= $  =\\\n -g \\\n    -g -g# a \\\\\nelse\noverride overendefide =  #-g\nendif\n", ChangeValue (One None) (codes "F") (edits.Add (codes "x$(a  b)")), Accepted 1 1 (span 70 70 (codes " x$(a  b)") ∷ []) (Becomes (codes ".RECIPEPREFIX = >\noverride X= -g\\\na\n#\nifdef A\nF= $  =\\\n -g \\\n    -g -g x$(a  b)# a \\\\\nelse\noverride overendefide =  #-g\nendif\n"))) ∷  -- more-661
    (codes "d&: a | b\n\ta # b\n\ttrue\n\t a\nF\\\n= \n", ChangeValue (One None) (codes "F") (edits.Add (codes "a\r")), NotMade 1 (BadArgument field.Word)) ∷  -- more-665
    (codes "F = b\\\n $  a a\nF != \n", ChangeValue (One (Some 2)) (codes "F") (edits.Add (codes "a\\ b")), Accepted 1 1 (span 20 20 (codes "a\\ b") ∷ []) (Becomes (codes "F = b\\\n $  a a\nF != a\\ b\n"))) ∷  -- more-676
    (codes "d x.o:\n>a\n>a\n\n>\nc:: ; true\n\ta\n\trm -rf x\n", ChangeValue (One None) (codes "F") (edits.Add (codes "a\0")), NotMade 1 (BadArgument field.Word)) ∷  -- more-684
    (codes "X\\\n:= a:b# c\nd:\n\t ", ChangeValue (One (Some 1)) (codes "X") (edits.Add (codes ";")), Accepted 1 1 (span 9 9 (codes " ;") ∷ []) (Becomes (codes "X\\\n:= a:b ;# c\nd:\n\t "))) ∷  -- more-687
    (codes "X ?=  # \\\n d\n# x ; y : z = 1\nd::\n # n\nF\\\n?= x=1 ${c} \\ \ninclude: ;\n\ta\n\tt\\\n", ChangeValue (One None) (codes "F") (edits.Add (codes "a\\ b")), Accepted 1 1 (span 55 55 (codes " a\\ b") ∷ []) (Becomes (codes "X ?=  # \\\n d\n# x ; y : z = 1\nd::\n # n\nF\\\n?= x=1 ${c} \\  a\\ b\ninclude: ;\n\ta\n\tt\\\n"))) ∷  -- more-692
    (codes "ifdef A\noverride\\\n=  | $(t \\\n -g) -g\nendif\noverride\\\n= \\\n    a -O2 \\\n \\\n x=1# \\\n d\nF\\\n= a a:b $(s (b) a)\\\n\tb \\\n \\\n b ", ChangeValue (One (Some 1)) (codes "override") (edits.Add (codes "$(t -g)")), NotMade 1 Already) ∷  -- more-697
    (codes "%.o:: ;\n\ta\n\tc: override!= \n", ChangeValue (One None) (codes "F") (edits.Add (codes "$")), NotMade 1 (BadArgument field.Word)) ∷  -- more-700
    (codes "c:: a | b\n# n\n", ChangeValue (One None) (codes "F") (edits.Add (codes "a\\ b")), NotMade 1 NoSuch) ∷  -- more-703
    (codes ".RECIPEPREFIX = >\nifdef A\nF = # a \\\\\nelse\noverride = = b a:b \nendif\nF\\\n+= # c\nF\\\n= $\tb \\\n    = a$ \\\n \\\\\\\\", ChangeValue (One (Some 3)) (codes "F") (edits.Add (codes "-g")), Accepted 1 1 (span 105 105 (codes " -g") ∷ []) (Becomes (codes ".RECIPEPREFIX = >\nifdef A\nF = # a \\\\\nelse\noverride = = b a:b \nendif\nF\\\n+= # c\nF\\\n= $\tb \\\n    = a$ \\\n \\\\\\\\ -g"))) ∷  -- more-704
    (codes "F = b\r\ndefine E # c\r\n", ChangeValue (One None) (codes "F") (edits.Add (codes "a")), Accepted 1 1 (span 5 5 (codes " a") ∷ []) (Becomes (codes "F = b a\r\ndefine E # c\r\n"))) ∷  -- more-705
    (codes "X\\\n:= a$  \\\r\n \nX != -g x=1 $ a:b \n", ChangeValue (One None) (codes "X") (edits.Add (codes "a:b")), NotMade 1 (Ambiguous 2)) ∷  -- more-708
    (codes "c: ; true\n>a\n# n\n>>a\n", ChangeValue (One (Some 0)) (codes "a\\=") (edits.Add (codes "a\r")), NotMade 1 (BadArgument field.Name)) ∷  -- more-709
    (codes "endef := $\\\n  \nifdef A\nX ::= a $$  #\nelse\nF = $\\ a \nendif\n", ChangeValue (One (Some 0)) (codes "F") (edits.Add (codes "-g")), NotMade 1 NoSuch) ∷  -- more-710
    (codes "c: a\nelse\n\trm -rf x\n\ty\r\nd:: a\n\tb\n\t\ttrue\n", ChangeValue (One None) (codes "o-$(a b)") (edits.Add (codes "-O2")), NotMade 1 (BadArgument field.Name)) ∷  -- more-715
    (codes "d c: ;\n\trm -rf x\nF+= $(a b)\n", ChangeValue (One None) (codes "F") (edits.Add (codes "\t")), NotMade 1 (BadArgument field.Word)) ∷  -- more-718
    (codes "F =\\\n a \\\n    -O2 \\ b\\\na =\nifdef A\noverride = $(a\tb)  ;\\\n\\\na \\\n    | $x # \\\n d\nendif\nc:: a | b\n>a\nelse\n", ChangeValue (One None) (codes "F") (edits.Add (codes "-g")), Accepted 1 1 (span 26 26 (codes " -g") ∷ []) (Becomes (codes "F =\\\n a \\\n    -O2 \\ b\\\na = -g\nifdef A\noverride = $(a\tb)  ;\\\n\\\na \\\n    | $x # \\\n d\nendif\nc:: a | b\n>a\nelse\n"))) ∷  -- more-724
    (codes "F = \n>;\n{}\t\\\t\\\n define\rdefine\nX\\\n!=#\n", ChangeValue (One None) (codes "X") (edits.Add (codes "x$(a  b)")), Accepted 1 1 (span 35 35 (codes "x$(a  b)") ∷ []) (Becomes (codes "F = \n>;\n{}\t\\\t\\\n define\rdefine\nX\\\n!=x$(a  b)#\n"))) ∷  -- more-732
    (codes "F = \\\\ -g | \\\n\n", ChangeValue (One None) (codes "F") (edits.Add (codes "\\\\")), NotMade 1 (BadArgument field.Word)) ∷  -- more-743
    (codes ".RECIPEPREFIX = >\nF\\\n!= ", ChangeValue (One None) (codes "F") (edits.Add (codes "-g")), Accepted 1 1 (span 24 24 (codes "-g") ∷ []) (Becomes (codes ".RECIPEPREFIX = >\nF\\\n!= -g"))) ∷  -- more-749
    (codes "F += $(A -g)\\\n\\\nx=1 b # \\\n d\n", ChangeValue (One None) (codes "F") (edits.Add (codes "x=1")), NotMade 1 Already) ∷  -- more-755
    (codes "F=  \\\r\n# c\r\n", ChangeValue (One None) (codes "F") (edits.Add (codes "a\\")), NotMade 1 (BadArgument field.Word)) ∷  -- more-757
    (codes "ifdef A\nF += a$\\\\\n a:b \\\n-g\\\n\\\na b # a \\\\\nelse\nF\\\n::= a x=1 #\nendif\n", ChangeValue (One (Some 2)) (codes "F") (edits.Add (codes "x=1")), NotMade 1 Already) ∷  -- more-760
    (codes "c&: a | b\n>a\\\n b\nF != -O2#-g\nX!= b x=1  a:b", ChangeValue (One None) (codes "F") (edits.Add (codes "$\\")), NotMade 1 (BadArgument field.Word)) ∷  -- more-765
    (codes "a.b\\\r\n= -g  $(t \\\r\n -g) x=1# \\\r\n d\r\nF := a a\\\\ -O2# \\\r\n d\r\nF!= -O2\r\n", ChangeValue (One (Some 1)) (codes "F") (edits.Add (codes ";")), Accepted 1 1 (span 50 50 (codes " ;") ∷ []) (Becomes (codes "a.b\\\r\n= -g  $(t \\\r\n -g) x=1# \\\r\n d\r\nF := a a\\\\ -O2 ;# \\\r\n d\r\nF!= -O2\r\n"))) ∷  -- more-771
    (codes "F += # c\nc: a\nc:: a\n\tifdef Q", ChangeValue (One None) (codes "F") (edits.Add (codes "a")), Accepted 1 1 (span 5 5 (codes "a") ∷ []) (Becomes (codes "F += a# c\nc: a\nc:: a\n\tifdef Q"))) ∷  -- more-772
    (codes "F\\\n= \n", ChangeValue (One None) (codes "F") (edits.Add (codes "$(A -g)")), Accepted 1 1 (span 5 5 (codes "$(A -g)") ∷ []) (Becomes (codes "F\\\n= $(A -g)\n"))) ∷  -- more-774
    (codes "F = # \\\n d", ChangeValue (One None) (codes "$(X)") (edits.Add (codes "a")), NotMade 1 (BadArgument field.Name)) ∷  -- more-775
    (codes "c:\n\t\n\ty\r\nX = a$  \\\r\n b \n", ChangeValue (One None) (codes "X") (edits.Add (codes "=")), Accepted 1 1 (span 22 22 (codes " =") ∷ []) (Becomes (codes "c:\n\t\n\ty\r\nX = a$  \\\r\n b = \n"))) ∷  -- more-778
    (codes "a.b\\\n:= $x\\\n\t|# \\\n d\nd:\r", ChangeValue (One None) (codes "a.b") (edits.Add (codes "a ")), NotMade 1 (BadArgument field.Word)) ∷  -- more-782
    (codes "F\\\n= \\\nx=1\\\n \\ x=1\n{. RECIPEPREFIX = >\nd:\n", ChangeValue (One (Some 1)) (codes "F") (edits.Add (codes "$ b")), Accepted 1 1 (span 18 18 (codes " $ b") ∷ []) (Becomes (codes "F\\\n= \\\nx=1\\\n \\ x=1 $ b\n{. RECIPEPREFIX = >\nd:\n"))) ∷  -- more-783
    (codes "c&: a\nX = $(s (b) a)\\\n\t-g \\\n \\\n -g\nt \\\n: :\nifdef A\nF = \\\n \\\n $$ b\\\n a \nelse\nX =\\\na a -O2\\\n\\\n$(w \\\n a)\nendif\n", ChangeValue (One (Some 2)) (codes "X") (edits.Add (codes "b")), Accepted 1 1 (span 101 101 (codes " b") ∷ []) (Becomes (codes "c&: a\nX = $(s (b) a)\\\n\t-g \\\n \\\n -g\nt \\\n: :\nifdef A\nF = \\\n \\\n $$ b\\\n a \nelse\nX =\\\na a -O2\\\n\\\n$(w \\\n a) b\nendif\n"))) ∷  -- more-792
    (codes "d&:\n\tb\n\t\\\n\n\ttrue\nc: ; true\n>\nifdef A\n", ChangeValue (One (Some 1)) (codes "Y!") (edits.Add (codes "x=1")), NotMade 1 (BadArgument field.Name)) ∷  -- more-793
    (codes "override\\\r\n!= -g\r\nc %.o:\r\nelse\r\n\ttrue\r\n\t\r\nF!= -g =# a \\\\\r\na.b:=$\t;\\\r\n\t$(A -g) b -g\r\nF\\\r\n::= a", ChangeValue (One (Some 2)) (codes "F") (edits.Add (codes "-g")), Accepted 1 1 (span 93 93 (codes " -g") ∷ []) (Becomes (codes "override\\\r\n!= -g\r\nc %.o:\r\nelse\r\n\ttrue\r\n\t\r\nF!= -g =# a \\\\\r\na.b:=$\t;\\\r\n\t$(A -g) b -g\r\nF\\\r\n::= a -g"))) ∷  -- more-794
    (codes "F\\\n+!=\\\n -g \\\n \\\n x=1 |# a \\\\", ChangeValue (One None) (codes "+") (edits.Add (codes "-g")), NotMade 1 (BadArgument field.Name)) ∷  -- more-795
    []

answers_3 : map (λ row. account row.0 row.1) rows_3 ≡ map (λ row. row.2) rows_3
answers_3 = refl

abbrev rows_4 : List (List ℕ × Edit × Account)
rows_4 =
    (codes "F\\\r\n:= a\\$ a\\$ #", ChangeValue (One None) (codes "F") (edits.Add (codes "b")), Accepted 1 1 (span 15 15 (codes " b") ∷ []) (Becomes (codes "F\\\r\n:= a\\$ a\\$  b#"))) ∷  -- more-799
    (codes "ifdef A\na.b+=\t; a -g#\nelse\nX =-g -g\\\n\\\n$(w \\\n a)  $(s (b) a)\nendif\noverride =  \nX\\\n?=\\\tx=1  -g\n", ChangeValue (One None) (codes "override") (edits.Add (codes "a")), Accepted 1 1 (span 79 79 (codes "a") ∷ []) (Becomes (codes "ifdef A\na.b+=\t; a -g#\nelse\nX =-g -g\\\n\\\n$(w \\\n a)  $(s (b) a)\nendif\noverride =  a\nX\\\n?=\\\tx=1  -g\n"))) ∷  -- more-800
    (codes "override =  ; #-g\nc: # c\n\tt\nendif\n\ta\nX !=\nF\\\n= x=1\\\n\ta:b#\n", ChangeValue (One (Some 1)) (codes "F") (edits.Add (codes "-g")), Accepted 1 1 (span 56 56 (codes " -g") ∷ []) (Becomes (codes "override =  ; #-g\nc: # c\n\tt\nendif\n\ta\nX !=\nF\\\n= x=1\\\n\ta:b -g#\n"))) ∷  -- more-803
    (codes "c: a | b\n # n\nelse\n>say \"q\"\n>\n\nifdef A\nF != $x $  \\\r\n ;\nendif\n", ChangeValue (One None) (codes "F") (edits.Add (codes "b")), Accepted 1 1 (span 55 55 (codes " b") ∷ []) (Becomes (codes "c: a | b\n # n\nelse\n>say \"q\"\n>\n\nifdef A\nF != $x $  \\\r\n ; b\nendif\n"))) ∷  -- more-807
    (codes "a.b\\\n+= b b b \n\\\n# \r\n $$:\\\n\\\n$(s\\) foo\\\r\n", ChangeValue (One None) (codes "a.b") (edits.Add (codes "b")), NotMade 1 Already) ∷  -- more-811
    (codes "F\\\n= $(w \\\n a) $(t \\\n -g) \nF=\\\n\\\n-O2 x$(a  b) b#\nifdef A\nF =a\nelse\nexport X?= a \\\r\n $x \\\n    b a:b\\\n\t; \nendif\nF\\\n=x=1\ndefine ::=\\\n\n", ChangeValue (One (Some 1)) (codes "F") (edits.Add (codes "$ b")), Accepted 1 1 (span 25 25 (codes " $ b") ∷ []) (Becomes (codes "F\\\n= $(w \\\n a) $(t \\\n -g) $ b \nF=\\\n\\\n-O2 x$(a  b) b#\nifdef A\nF =a\nelse\nexport X?= a \\\r\n $x \\\n    b a:b\\\n\t; \nendif\nF\\\n=x=1\ndefine ::=\\\n\n"))) ∷  -- more-813
    (codes "b=( endef(\\\r\n\t\\\r\n(\0>a\r\nexport a.b =-g\r\n", ChangeValue (One None) (codes "a.b") (edits.Add (codes "x=1")), Accepted 1 1 (span 37 37 (codes " x=1") ∷ []) (Becomes (codes "b=( endef(\\\r\n\t\\\r\n(\0>a\r\nexport a.b =-g x=1\r\n"))) ∷  -- more-814
    (codes ".RECIPEPREFIX = >\r\noverride F\\\r\n=$\\ -g $(a\tb) ", ChangeValue (One None) (codes "F") (edits.Add (codes "$(a\tb)")), NotMade 1 Already) ∷  -- more-815
    (codes ".RECIPEPREFIX = >\nc: a\n\tifdef Q\n\ttrue\n\ta\nc:\n \\\n\t%.o \\\r\n $(q:;=|): $(q:;=|)\tx.o \\\r\n |\\\n\t\\\r\n${g(} \t$(f {)\\\n\\\n\nc: a | b\n>rm -f x\n> a\noverride = -g ; \\\n    -g# \\\n d\n", ChangeValue (One None) (codes "override") (edits.Add (codes "a")), Accepted 1 1 (span 154 154 (codes " a") ∷ []) (Becomes (codes ".RECIPEPREFIX = >\nc: a\n\tifdef Q\n\ttrue\n\ta\nc:\n \\\n\t%.o \\\r\n $(q:;=|): $(q:;=|)\tx.o \\\r\n |\\\n\t\\\r\n${g(} \t$(f {)\\\n\\\n\nc: a | b\n>rm -f x\n> a\noverride = -g ; \\\n    -g a# \\\n d\n"))) ∷  -- more-822
    (codes "d: ; true\r\n\tsay \"q\"\r\n\ttrue\r\nc:\r\n\ta\\\\\r\n\ttrue\r\n\t\r\n.RECIPEPREFIX = \r\nF ::=x=1 \r\nc: # c\r\n\ttrue\r\n\t\ttrue", ChangeValue (One None) (codes "F") (edits.Add (codes "$\\x")), Accepted 1 1 (span 74 74 (codes " $\\x") ∷ []) (Becomes (codes "d: ; true\r\n\tsay \"q\"\r\n\ttrue\r\nc:\r\n\ta\\\\\r\n\ttrue\r\n\t\r\n.RECIPEPREFIX = \r\nF ::=x=1 $\\x \r\nc: # c\r\n\ttrue\r\n\t\ttrue"))) ∷  -- more-825
    (codes "d d: # c\r\nc:: a\n# \\\n n\n>a\n>\ttrue\nifdef A\nX=|\\\n$$ \nc: ;\n>rm -f x\n>\n>true \\\r\n\ttrue\n", ChangeValue (One None) (codes "X") (edits.Add (codes "$\\x")), Accepted 1 1 (span 48 48 (codes " $\\x") ∷ []) (Becomes (codes "d d: # c\r\nc:: a\n# \\\n n\n>a\n>\ttrue\nifdef A\nX=|\\\n$$ $\\x \nc: ;\n>rm -f x\n>\n>true \\\r\n\ttrue\n"))) ∷  -- more-830
    (codes " \\\n\nF =  \n\\\n>\\\t\\\n\t\\\\\n\\\n\t\\\n\n", ChangeValue (One None) (codes "F") (edits.Add (codes ";")), Accepted 1 1 (span 9 9 (codes ";") ∷ []) (Becomes (codes " \\\n\nF =  ;\n\\\n>\\\t\\\n\t\\\\\n\\\n\t\\\n\n"))) ∷  -- more-832
    (codes "F::= -g -g\tx=1 ;\r\nF += a\\\r\n \\\\\r\n", ChangeValue (One (Some 2)) (codes "F") (edits.Add (codes "a:b")), Accepted 1 1 (span 30 30 (codes " a:b") ∷ []) (Becomes (codes "F::= -g -g\tx=1 ;\r\nF += a\\\r\n \\\\ a:b\r\n"))) ∷  -- more-835
    (codes "X\\\r\n!= b# c\r\nX != = b #-g\r\n", ChangeValue (One (Some 1)) (codes "X") (edits.Add (codes "$(t -g)")), Accepted 1 1 (span 8 8 (codes " $(t -g)") ∷ []) (Becomes (codes "X\\\r\n!= b $(t -g)# c\r\nX != = b #-g\r\n"))) ∷  -- more-837
    (codes "override F ?=| Ã© \r\n.RECIPEPREFIX = $x", ChangeValue (One None) (codes "F") (edits.Add (codes "a\\ b")), NotMade 1 RecipePrefix) ∷  -- more-847
    (codes "X::= \\\n \\\n b a $(A -g) # c\nx.o: a | b\n\ttrue\n\ta\n\trm -rf x\nt1::= a\\:b\n", ChangeValue (One None) (codes "X") (edits.Add (codes "$(t -g)")), Accepted 1 1 (span 22 22 (codes " $(t -g)") ∷ []) (Becomes (codes "X::= \\\n \\\n b a $(A -g) $(t -g) # c\nx.o: a | b\n\ttrue\n\ta\n\trm -rf x\nt1::= a\\:b\n"))) ∷  -- more-850
    (codes "ifdef A\nX ::= $\\  = = -O2 # c\nelse\nF= -O2\\\n\\\n$(w \\\n a) -g a\nendif\nF = -g  | # c\n", ChangeValue (One None) (codes "X") (edits.Add (codes "-g")), Accepted 1 1 (span 25 25 (codes " -g") ∷ []) (Becomes (codes "ifdef A\nX ::= $\\  = = -O2 -g # c\nelse\nF= -O2\\\n\\\n$(w \\\n a) -g a\nendif\nF = -g  | # c\n"))) ∷  -- more-851
    (codes "X = \\\r\nF =$\\\r\n\\\r\na:b b\r\n#c \\\r\n d\r\nc: ;\r\n\ttrue\r\n\tifdef Q\r\nexport F != $(s (b) a) | b\\\r\n$\\\r\n\\\r\n\t-g# \\\r\n d\r\n", ChangeValue (One None) (codes "X") (edits.Add (codes "\\\\a")), Accepted 1 1 (span 22 22 (codes " \\\\a") ∷ []) (Becomes (codes "X = \\\r\nF =$\\\r\n\\\r\na:b b \\\\a\r\n#c \\\r\n d\r\nc: ;\r\n\ttrue\r\n\tifdef Q\r\nexport F != $(s (b) a) | b\\\r\n$\\\r\n\\\r\n\t-g# \\\r\n d\r\n"))) ∷  -- more-854
    (codes "A ::= \\$x  \nifdef A\noverride\\\n=$\\ -g b# c\nelse\nF\\\n=  #-g\nendif\nc&:\n\ttrue\n\t\n\ta\nF\\\n= =\\\n -g#\n", ChangeValue (One None) (codes "A") (edits.Add (codes "$(w a)")), Accepted 1 1 (span 9 9 (codes " $(w a)") ∷ []) (Becomes (codes "A ::= \\$x $(w a)  \nifdef A\noverride\\\n=$\\ -g b# c\nelse\nF\\\n=  #-g\nendif\nc&:\n\ttrue\n\t\n\ta\nF\\\n= =\\\n -g#\n"))) ∷  -- more-898
    (codes "override X=a\t$(u#-g", ChangeValue (One None) (codes "X") (edits.Add (codes "-O2")), NotMade 1 OpenValue) ∷  -- more-900
    (codes "export X = $(a b)\nF= a\\\n\\\n$\\\n $  \\\n-O2# \\\n d\nc: ;\nF = x=1 b -g ;\n :: t1 :::=\t${u= \\$x # \r\nF =-g \\\n    Ã©\n", ChangeValue (One (Some 1)) (codes "F") (edits.Add (codes "$x")), Accepted 1 1 (span 38 38 (codes " $x") ∷ []) (Becomes (codes "export X = $(a b)\nF= a\\\n\\\n$\\\n $  \\\n-O2 $x# \\\n d\nc: ;\nF = x=1 b -g ;\n :: t1 :::=\t${u= \\$x # \r\nF =-g \\\n    Ã©\n"))) ∷  -- more-902
    (codes "F= | a:b &#-g\n", ChangeValue (One None) (codes "F") (edits.Add (codes "b")), Accepted 1 1 (span 10 10 (codes " b") ∷ []) (Becomes (codes "F= | a:b & b#-g\n"))) ∷  -- more-903
    (codes "override override =${c} -O2 -g\\\n\ta# \\\n d\nexport F\\\n!= -O2\\\n x=1\n", ChangeValue (One None) (codes "F") (edits.Add (codes "a:b")), Accepted 1 1 (span 63 63 (codes " a:b") ∷ []) (Becomes (codes "override override =${c} -O2 -g\\\n\ta# \\\n d\nexport F\\\n!= -O2\\\n x=1 a:b\n"))) ∷  -- more-906
    (codes "a.b = a \nX != ${c} \\\n    $\\\n \\\n \\\n | ${v a a:b\\\n\\\n", ChangeValue (One None) (codes "a.b") (edits.Add (codes "$x")), Accepted 1 1 (span 7 7 (codes " $x") ∷ []) (Becomes (codes "a.b = a $x \nX != ${c} \\\n    $\\\n \\\n \\\n | ${v a a:b\\\n\\\n"))) ∷  -- more-908
    (codes "F\\\r\n= ;\\\r\n| ${c}\r\n", ChangeValue (One None) (codes "F") (edits.Add (codes "-O2")), Accepted 1 1 (span 16 16 (codes " -O2") ∷ []) (Becomes (codes "F\\\r\n= ;\\\r\n| ${c} -O2\r\n"))) ∷  -- more-912
    (codes "c d: a | b\n>\nifeq (a,b)\nifdef A\nF := b \\\r\n ${v a# \\\n d", ChangeValue (One None) (codes "F") (edits.Add (codes "$ b")), NotMade 1 OpenValue) ∷  -- more-915
    (codes ".RECIPEPREFIX = >\r\nadefine; \\\n)\n #\\\\\nifdef A\nX =$\nelse\nF =-g\\\nx=1\nendif\nF\\\n=| b a$  -O2 \\\r\n $ \n$(q:;=|):::\t| \t\n", ChangeValue (One (Some 2)) (codes "F") (edits.Add (codes "a\\ b")), Accepted 1 1 (span 94 94 (codes " a\\ b") ∷ []) (Becomes (codes ".RECIPEPREFIX = >\r\nadefine; \\\n)\n #\\\\\nifdef A\nX =$\nelse\nF =-g\\\nx=1\nendif\nF\\\n=| b a$  -O2 \\\r\n $  a\\ b\n$(q:;=|):::\t| \t\n"))) ∷  -- more-916
    (codes "F = -g\na.b =a", ChangeValue (One None) (codes "a.b") (edits.Add (codes "b")), Accepted 1 1 (span 13 13 (codes " b") ∷ []) (Becomes (codes "F = -g\na.b =a b"))) ∷  -- more-917
    (codes ".RECIPEPREFIX = >\nF +=$x \\\n \\\n b a:b -g\nc: # c\n># n\nelse\nifeq (a,b)\nifdef A\nF != \\\\\nelse\noverride= = \\\n    ${v a \\\r\n x=1 \\\n#-g\nendif\na.b ::= $(s (b) a) b ${c}\\\n\t-g\ta:b# c\noverride =; -g# \\\n d\n", ChangeValue (One (Some 1)) (codes "override") (edits.Add (codes "$x")), NotMade 1 OpenValue) ∷  -- more-929
    (codes "a.b\\\n::=\t-g $(u x$(a  b)\\\n -O2 $\\\n\t\\\n", ChangeValue (One None) (codes "a.b") (edits.Add (codes "b")), NotMade 1 OpenValue) ∷  -- more-965
    (codes "override!=-O2 b\\\n\t$(u a $(t \\\n -g)\n", ChangeValue (One None) (codes "override") (edits.Add (codes "$x")), NotMade 1 OpenValue) ∷  -- more-985
    (codes "override F := a\\\n ${v a\nifdef A\nF\\\n= =# \\\n d\nendif\n\r\n=)\\\n?|\0\\\n\nX += b x$(a  b)\tb\n", ChangeValue (One (Some 1)) (codes "F") (edits.Add (codes "b")), NotMade 1 OpenValue) ∷  -- more-1035
    (codes "F :=a:b | -g#-g\r\nF += |\\\r\n\t-g\r\nifdef A\r\na.b ::=\ta:b b\\\r\n\t-g \\\r\na$ \r\nendif\r\n", ChangeValue (One None) (codes "F") (edits.Add (codes "x=1")), NotMade 1 (Ambiguous 2)) ∷  -- more-1077
    (codes "F := \nc: a\n> a\nifdef A\n>\\\n\nF =-g =\\\na\t$$\\\n\t$# \\\n d\n", ChangeValue (One None) (codes "F") (edits.Add (codes "a\\ b")), NotMade 1 (Ambiguous 2)) ∷  -- more-1090
    (codes "override\\\n= -g $\\\n\n", ChangeValue (One None) (codes "override") (edits.Add (codes "a")), NotMade 1 OpenValue) ∷  -- more-1093
    (codes "d:\r\nexport F\\\n= a\\\n\tb $\n\ttrue\n\ta\nc: ; true\n>ifdef Q\n>true\n", ChangeValue (One None) (codes "F") (edits.Add (codes "$x")), NotMade 1 OpenValue) ∷  -- more-1094
    (codes "ifdef A\noverride = $\\ -g\nelse\nF = -g\nendif\nc&: a | b\n\ta\\\\\nelse\n\tifdef Q\n.RECIPEPREFIX = $x\nd: a\nifdef A\n", ChangeValue (One (Some 2)) (codes "override") (edits.Add (codes "|")), NotMade 1 RecipePrefix) ∷  -- more-1099
    (codes "F\\\r\n!= -g a# a \\\\\r\nF =a -g\r\n", ChangeValue (One None) (codes "F") (edits.Add (codes "$x")), NotMade 1 (Ambiguous 2)) ∷  -- more-1103
    (codes "ifdef A\na.b\\\n= a\\\n\\\nb#-g\nelse\na.b= $(a\tb) -g $(u \\ b ${v a\nendif\nifdef A\nF = ${c} b\\\n\\\n${v a\nelse\nexport F =$(w \\\n a) \\\r\n $(a b) \\\n \\\n = a -O2\nendif\n", ChangeValue (One (Some 1)) (codes "F") (edits.Add (codes "-O2")), NotMade 1 OpenValue) ∷  -- more-1137
    (codes "F = b b a\\\n\\\nb\nF+= $\\\n =\noverride F =a\\\n\\\na# c\n", ChangeValue (One None) (codes "F") (edits.Add (codes "-g")), NotMade 1 (Ambiguous 3)) ∷  -- more-1140
    (codes "F\\\n= -g \\\n \\\n -g\nF= \n", ChangeValue (One None) (codes "F") (edits.Add (codes "-g")), NotMade 1 (Ambiguous 2)) ∷  -- more-1142
    (codes "override ?= a x=1\n", ChangeValue (One None) (codes ".RECIPEPREFIX") (edits.Add (codes "-O2")), NotMade 1 Reserved) ∷  -- more-1170
    (codes "F =$\\\\\n\tx=1 $$", ChangeValue (One None) (codes "F") (edits.Add (codes ";")), NotMade 1 OpenValue) ∷  -- more-1194
    (codes "override = b  b -O2 \r\noverride = $(a\tb)# c\nc d: a | b\n>ifdef Q\n>>a\n", ChangeValue (One None) (codes "override") (edits.Add (codes "b")), NotMade 1 (Ambiguous 2)) ∷  -- more-1208
    (codes "F?=;\\\n\\\n| a \\\r\n $#\\\n #-g\nc&: a\n\ta # b\n\trm -rf x\n\t\na.b\\\n= b $(s (b) a)\nF = -O2\tÃ© -g\nifdef A\nF::=\\\n$(s (b) a) |\nelse\noverride override=\\\n|\nendif\n", ChangeValue (One None) (codes "F") (edits.Add (codes ";")), NotMade 1 (Ambiguous 3)) ∷  -- more-1225
    (codes ".RECIPEPREFIX = >\nF?= ${v a \\\n-g -O2 \\\r\n \\ b\n \\\n\nF ::= \n", ChangeValue (One (Some 1)) (codes "F") (edits.Add (codes "b")), NotMade 1 OpenValue) ∷  -- more-1237
    (codes "X!= -g\\\r\n-g\t${v a \\\r\n -g a:b\r\nF\\\r\n= \\#\r\nc: a\r", ChangeValue (One None) (codes "X") (edits.Add (codes "a\\ b")), NotMade 1 OpenValue) ∷  -- more-1270
    (codes "F != a $(a b) \\\r\n$\\\r\n \\\r\n    #", ChangeValue (One (Some 1)) (codes "F") (edits.Add (codes "b")), NotMade 1 OpenValue) ∷  -- more-1276
    (codes ".RECIPEPREFIX ?= >\nX != b b \\\n    x=1# a \\\\\nF =  \\\n \\\n \nifdef A\nF ::=b \nendif\n", ChangeValue (One (Some 2)) (codes "F") (edits.Add (codes "${c}")), NotMade 1 RecipePrefix) ∷  -- more-1277
    (codes ".RECIPEPREFIX = >\nexport F\\\n= -O2 a a# a \\\\\nX\\\n::= \nx.o:\n\trm -f x\n\trm -rf x\n\t\n\ta \\\n\tb\nifdef A\nF =  \nelse\nF = #-g\nendif\n", ChangeValue (One None) (codes "F") (edits.Add (codes "$(w a)")), NotMade 1 (Ambiguous 3)) ∷  -- more-1280
    []

answers_4 : map (λ row. account row.0 row.1) rows_4 ≡ map (λ row. row.2) rows_4
answers_4 = refl

abbrev rows_5 : List (List ℕ × Edit × Account)
rows_5 =
    (codes "F = a =  |\n #\n", ChangeValue (One (Some 2)) (codes "F") (edits.Remove (codes "=")), NotMade 1 NoSuch) ∷  -- more-4
    (codes "F =a ; x$(a  b) \r\nx.o c: ; true\n\tifdef Q\n\tb\n\t\ttrue\nc: ;\n\ttrue\n\t>a\n\tx \\ y\n", ChangeValue (One None) (codes "F") (edits.Remove (codes "x$(a  b)")), Accepted 1 1 (span 6 15 [] ∷ []) (Becomes (codes "F =a ; \r\nx.o c: ; true\n\tifdef Q\n\tb\n\t\ttrue\nc: ;\n\ttrue\n\t>a\n\tx \\ y\n"))) ∷  -- more-6
    (codes "# c\nF\\\n+=| x=1 \n", ChangeValue (One (Some 1)) (codes "F") (edits.Remove (codes "|")), Accepted 1 1 (span 9 11 [] ∷ []) (Becomes (codes "# c\nF\\\n+=x=1 \n"))) ∷  -- more-7
    (codes "override X = = \\\n-O2 \\\n    $$ \nF\\\n+= a# c\n${g(} \t:  $x $(a b) \t$(s\\) \nc:: a\n\tifdef Q\n\trm -rf x\nc: # c\n \n>rm -rf x\n", ChangeValue (One None) (codes "X") (edits.Remove (codes "$x")), NotMade 1 Absent) ∷  -- more-9
    (codes "ifdef A\nF = x$(a  b) $(w \\\n a)\nelse\na.b = a\\\n # a \\\\\nendif\ndefine D", ChangeValue (One (Some 1)) (codes "a.b") (edits.Remove (codes "a")), Accepted 1 1 (span 42 46 [] ∷ []) (Becomes (codes "ifdef A\nF = x$(a  b) $(w \\\n a)\nelse\na.b = # a \\\\\nendif\ndefine D"))) ∷  -- more-12
    (codes "\\\nexport private define X =\n", ChangeValue (One (Some 2)) (codes ".RECIPEPREFIX") (edits.Remove (codes "b")), NotMade 1 Reserved) ∷  -- more-14
    (codes "c x.o: # c\r\n\ta # b\nendif\ndefine != a\\:b \n \\\n\n", ChangeValue (One (Some 0)) (codes "define") (edits.Remove (codes "a\\:b")), NotMade 1 NoSuch) ∷  -- more-15
    ([], ChangeValue (One None) (codes "F") (edits.Remove (codes "$\\x")), NotMade 1 NoSuch) ∷  -- more-23
    (codes "A  ?= a&b\\\n\\\n\\# \noverride override:= \\\r\n  \noverride!= a\\$# a \\\\\n", ChangeValue (One (Some 1)) (codes "override") (edits.Remove (codes "a\\ b")), NotMade 1 Absent) ∷  -- more-24
    (codes "F=\\\n$(u a\t|# \\\n d\nF!=b\\\n\t-O2\\\nb\n", ChangeValue (One (Some 2)) (codes "F") (edits.Remove (codes "-O2")), Accepted 1 1 (span 22 28 [] ∷ []) (Becomes (codes "F=\\\n$(u a\t|# \\\n d\nF!=b\\\nb\n"))) ∷  -- more-25
    (codes "F:= \\ b -g -g # a \\\\", ChangeValue (One None) (codes "F") (edits.Remove (codes "b")), NotMade 1 Absent) ∷  -- more-31
    (codes "d:\n\ta # b\n\tifdef Q\nF := ; -g b\nX ::= b\\\n\\\nb\\\n$$ -g\n", ChangeValue (One None) (codes "F") (edits.Remove (codes "-g")), Accepted 1 1 (span 25 28 [] ∷ []) (Becomes (codes "d:\n\ta # b\n\tifdef Q\nF := ; b\nX ::= b\\\n\\\nb\\\n$$ -g\n"))) ∷  -- more-32
    (codes "F:=\\\n $(a b) \\\n \\\n $$ \\\n \\\n a # a \\\\\r", ChangeValue (One (Some 1)) (codes "\\#x") (edits.Remove (codes "b")), NotMade 1 (BadArgument field.Name)) ∷  -- more-33
    (codes "a.b\\\n= b", ChangeValue (One (Some 1)) (codes "a.b") (edits.Remove (codes "b")), Accepted 1 1 (span 7 8 [] ∷ []) (Becomes (codes "a.b\\\n= "))) ∷  -- more-34
    (codes "\t \nX = x=1 a:b\\\n\tx$(a  b) $\\# c\na.b := a -g\n", ChangeValue (One None) (codes "a.b") (edits.Remove (codes "-g")), Accepted 1 1 (span 40 43 [] ∷ []) (Becomes (codes "\t \nX = x=1 a:b\\\n\tx$(a  b) $\\# c\na.b := a\n"))) ∷  -- more-37
    (codes "override\\\n?= a:b \nx.o: ; true\n>true\n>b\n", ChangeValue (One None) (codes "override") (edits.Remove (codes "a:b")), Accepted 1 1 (span 13 17 [] ∷ []) (Becomes (codes "override\\\n?= \nx.o: ; true\n>true\n>b\n"))) ∷  -- more-38
    (codes "ifdef A\nF= a a\nelse\nF= -g x=1 \\# \nendif\ninclude::\n\ta # b\n\tt\n+ \t\\\n:#\n$(X) := \\$x \nifdef A\noverride = b \\\n \\\n a\\ \nendif\n", ChangeValue (One (Some 2)) (codes "F") (edits.Remove (codes "-g")), Accepted 1 1 (span 23 26 [] ∷ []) (Becomes (codes "ifdef A\nF= a a\nelse\nF= x=1 \\# \nendif\ninclude::\n\ta # b\n\tt\n+ \t\\\n:#\n$(X) := \\$x \nifdef A\noverride = b \\\n \\\n a\\ \nendif\n"))) ∷  -- more-47
    (codes "\n.RE:PEPREFIX = >\nF\\\n!=-2 $  \nc:: # c\nF\\\n!= ; -O2 a ${v a x=1# a >\n\t\n \\\n\n", ChangeValue (One (Some 1)) (codes "F") (edits.Remove (codes "-2")), Accepted 1 1 (span 23 26 [] ∷ []) (Becomes (codes "\n.RE:PEPREFIX = >\nF\\\n!=$  \nc:: # c\nF\\\n!= ; -O2 a ${v a x=1# a >\n\t\n \\\n\n"))) ∷  -- more-52
    (codes "F =a a\n", ChangeValue (One (Some 1)) (codes "F") (edits.Remove (codes "a")), Accepted 1 1 (span 3 6 [] ∷ []) (Becomes (codes "F =\n"))) ∷  -- more-56
    (codes "d: ;\r\nF?= -g\\\r\n a\r\nF = -g\tb a:b#\r\nF\\\r\n::= ; -g\\\r\n \r\n", ChangeValue (One (Some 2)) (codes "F") (edits.Remove (codes "b")), Accepted 1 1 (span 25 27 [] ∷ []) (Becomes (codes "d: ;\r\nF?= -g\\\r\n a\r\nF = -g a:b#\r\nF\\\r\n::= ; -g\\\r\n \r\n"))) ∷  -- more-63
    (codes "c: ; true\n\t>a\n\ta\n\trm -f x\n", ChangeValue (One None) (codes "override") (edits.Remove (codes "b")), NotMade 1 NoSuch) ∷  -- more-64
    (codes "ifdef A\nF = $(A -g)\\\n ${c}#-g\nelse\na.b= $# x=1 b -O2\nendif\ninclude:\nc: a\n\t\\\n\n\tt\nifeq (a,b)\n\t>a\nF!= -O2 \\\r\n b \\\n \\\n ${c} = \\\n#\n", ChangeValue (One (Some 2)) (codes "F") (edits.Remove (codes "-O2")), Accepted 1 1 (span 99 107 [] ∷ []) (Becomes (codes "ifdef A\nF = $(A -g)\\\n ${c}#-g\nelse\na.b= $# x=1 b -O2\nendif\ninclude:\nc: a\n\t\\\n\n\tt\nifeq (a,b)\n\t>a\nF!= b \\\n \\\n ${c} = \\\n#\n"))) ∷  -- more-72
    (codes "ifdef A\nF != a#-=g\nelse\nF = $\\\n \nendif\r", ChangeValue (One (Some 1)) (codes "F") (edits.Remove (codes "a")), Accepted 1 1 (span 13 14 [] ∷ []) (Becomes (codes "ifdef A\nF != #-=g\nelse\nF = $\\\n \nendif\r"))) ∷  -- more-77
    (codes "a.b+= ;\t$\\\r\nx  y\r\nX\\\r\n::=a -g \\ \\\r\n    \\\\\r\n\r\n", ChangeValue (One (Some 2)) (codes "a.b") (edits.Remove (codes ";")), NotMade 1 NoSuch) ∷  -- more-80
    (codes "F := b \\\n    $  a:b \n", ChangeValue (One None) (codes "F") (edits.Remove (codes "b")), Accepted 1 1 (span 5 13 [] ∷ []) (Becomes (codes "F := $  a:b \n"))) ∷  -- more-83
    (codes "F::= #-g\nc&:\n\t a\n\t\ttrue\nelse\n\ttrue \\\r\n\ttrue\nF:= = \\\n    -O2 b x=1 \\\n$(a\tb)\nF =$$ \\\n$\\\nF = ", ChangeValue (One (Some 1)) (codes "F") (edits.Remove (codes "b")), NotMade 1 Absent) ∷  -- more-93
    (codes "c: ; true\r\nF+= x=1\t| a #", ChangeValue (One None) (codes "F") (edits.Remove (codes "a")), Accepted 1 1 (span 20 22 [] ∷ []) (Becomes (codes "c: ; true\r\nF+= x=1\t| #"))) ∷  -- more-94
    (codes "F\\\n::=# a \\\\\nX = = \\\n \\\n $# a\n", ChangeValue (One None) (codes "F") (edits.Remove (codes "$(s (b) a)")), NotMade 1 Absent) ∷  -- more-95
    (codes "F = -O2 ; \\\n    -g\n", ChangeValue (One None) (codes "F") (edits.Remove (codes "\\\\a")), NotMade 1 Absent) ∷  -- more-100
    (codes "F != a $(a b) \\\r\n ;# \\\n d\n", ChangeValue (One None) (codes "X$ ") (edits.Remove (codes "-O2")), NotMade 1 (BadArgument field.Name)) ∷  -- more-105
    (codes "override\\\n=${c}\t; b#-g\nF := \\\r\n -O2 # \\\n d\n", ChangeValue (One None) (codes "F") (edits.Remove (codes "-O2")), Accepted 1 1 (span 32 36 [] ∷ []) (Becomes (codes "override\\\n=${c}\t; b#-g\nF := \\\r\n # \\\n d\n"))) ∷  -- more-106
    (codes "include: a | b\r\nendif\r\n\ttrue\r\n\ttrue\r\n\ta # b\r\nF += a\\ \t-g -O2 \\\r\n    b\\\r\n\tx$(a  b)\r\nc %.o: a\r\n\tsay \"q\"\r\n", ChangeValue (One None) (codes "F") (edits.Remove (codes "a")), NotMade 1 Absent) ∷  -- more-111
    (codes "d: ; true\r\n>\ttrue\r\n>say \"q\"\r\nifeq (a,b)\r\nF\\\r\n:= -O2\\\r\n\t-O2\\\r\n a\r\n", ChangeValue (One None) (codes "F") (edits.Remove (codes "-O2")), Accepted 1 1 (span 48 55 [] ∷ span 55 62 [] ∷ []) (Becomes (codes "d: ; true\r\n>\ttrue\r\n>say \"q\"\r\nifeq (a,b)\r\nF\\\r\n:= a\r\n"))) ∷  -- more-114
    (codes ".RECIPEPREFIX = >\r\nF= \\\r\n \\\r\n $\\ ", ChangeValue (One (Some 2)) (codes "F") (edits.Remove (codes "$\\")), NotMade 1 (BadArgument field.Word)) ∷  -- more-116
    (codes "F ?=a b\t\n$x:  \\\n \\\n \nF ?= \\\n    |\\\n\\\n# c\na.b ::= \\\\\\\n \nF != a:b -O2 \\\r\n ;\n", ChangeValue (One (Some 2)) (codes "F") (edits.Remove (codes "|")), Accepted 1 1 (span 32 37 [] ∷ []) (Becomes (codes "F ?=a b\t\n$x:  \\\n \\\n \nF ?= \\\n    # c\na.b ::= \\\\\\\n \nF != a:b -O2 \\\r\n ;\n"))) ∷  -- more-117
    (codes "ifdef A\nX = $x  ;\tx=1 \nelse\nF+= a$  a\\\n\\\n# a \\\\\nendif\n$(f {) -include2 ::\\\n\\\nY\\\n\\\n= $(a b)# x ; y : z = 1\noverride a.b!= \\\r\n -g a# c\n", ChangeValue (One None) (codes "X") (edits.Remove (codes "$x")), Accepted 1 1 (span 12 16 [] ∷ []) (Becomes (codes "ifdef A\nX = ;\tx=1 \nelse\nF+= a$  a\\\n\\\n# a \\\\\nendif\n$(f {) -include2 ::\\\n\\\nY\\\n\\\n= $(a b)# x ; y : z = 1\noverride a.b!= \\\r\n -g a# c\n"))) ∷  -- more-119
    (codes "ifdef A\na.b ?= a  -O2 -O2 \nelse\nF =-g a:b\\\n\ta# c\nendif", ChangeValue (One None) (codes "a.b") (edits.Remove (codes "a")), Accepted 1 1 (span 15 18 [] ∷ []) (Becomes (codes "ifdef A\na.b ?= -O2 -O2 \nelse\nF =-g a:b\\\n\ta# c\nendif"))) ∷  -- more-124
    (codes "t1 != $xa #\\\\\nF = $\\\n#-g\n# \r\nifdef A\nF =-O2\\\n a ${c} $(a\tb) $(A -g)# a \\\\\nendif", ChangeValue (One (Some 1)) (codes "F") (edits.Remove (codes "$ ")), NotMade 1 (BadArgument field.Word)) ∷  -- more-126
    (codes "c:", ChangeValue (One None) (codes "F") (edits.Remove (codes "-g")), NotMade 1 NoSuch) ∷  -- more-129
    (codes "ifdef A\nF?=\\\n -O2\\\n \nelse\na.b\\\n= ${c}\nendif\nX\\\n= -g b\n", ChangeValue (One None) (codes "F") (edits.Remove (codes "-O2")), Accepted 1 1 (span 14 20 [] ∷ []) (Becomes (codes "ifdef A\nF?=\\\n \nelse\na.b\\\n= ${c}\nendif\nX\\\n= -g b\n"))) ∷  -- more-133
    (codes ".RECIPEPREFIX = >\r\na.b = -g\\\r\n-O2\\\r\na ;\r\ninclude c: a | b\r\n\ta\\\r\n>b\r\n\ta\r\n\t\ttrue\r\noverride = # \\\r\n d\r\n>%.c : c\tx.o\t%.o | \r\n", ChangeValue (One None) (codes "override") (edits.Remove (codes "a")), NotMade 1 Absent) ∷  -- more-136
    (codes "a.b\\\n=\\\n\n", ChangeValue (One None) (codes "F") (edits.Remove (codes "-g")), NotMade 1 NoSuch) ∷  -- more-138
    (codes "X = a # c\r\nc: # c\r\n>true\r\nendif\r\nifdef A\r\n>a\r\nX\\\r\n?= = -g a:b\r\nX != = \\\r\nb\r\n\t# c", ChangeValue (One (Some 1)) (codes "X") (edits.Remove (codes "a")), Accepted 1 1 (span 4 6 [] ∷ []) (Becomes (codes "X = # c\r\nc: # c\r\n>true\r\nendif\r\nifdef A\r\n>a\r\nX\\\r\n?= = -g a:b\r\nX != = \\\r\nb\r\n\t# c"))) ∷  -- more-142
    (codes ".RECIPEPREFIX = >\r\n|\\endefdefine \t\\\n\noverride = $# # \\\n d\nF\\\n?= a b\nF\\\n=${v a\\\n\\\na\\  = -O2# \\\n d\n", ChangeValue (One (Some 2)) (codes "F") (edits.Remove (codes "${v a a\\  = -O2# d")), NotMade 1 (BadArgument field.Word)) ∷  -- more-145
    (codes ".RECIPEPREFIX = >\n \n", ChangeValue (One (Some 0)) (codes "X$:") (edits.Remove (codes "$(w a)")), NotMade 1 (BadArgument field.Name)) ∷  -- more-146
    (codes "override F = \\# a\n", ChangeValue (One None) (codes "F") (edits.Remove (codes "\\#")), Accepted 1 1 (span 13 16 [] ∷ []) (Becomes (codes "override F = a\n"))) ∷  -- more-149
    (codes "ifdef A\nF ::=a:b \\\n-g \\\n    \\\\\\\\ $\\\nelse\nF+= -O2\nendif\n \\\n\noverride F = \n", ChangeValue (One (Some 3)) (codes "F") (edits.Remove (codes "$(s (b) a)")), NotMade 1 Absent) ∷  -- more-151
    (codes ".RECIPEPREFIX = $\nifdef A\noverride ::=\\ -g  a\nelse F = | a\nendif\noverride X += b\\\n-O2 -O2# c\na.b = a b # c\n# c\n", ChangeValue (One None) (codes "a.b") (edits.Remove (codes "a")), NotMade 1 RecipePrefix) ∷  -- more-152
    (codes " \\\n\nX?= b \\ b \\\r\n -O2 $ a\\ \n", ChangeValue (One (Some 2)) (codes "X") (edits.Remove (codes "\\ b")), NotMade 1 NoSuch) ∷  -- more-153
    (codes "F::= b -O2 -g \nX = -O2\nF+=${v a -O2#-g\na.b ::= $(t \\\n -g) -g\t-g\n# x ; y : z = 1\n", ChangeValue (One None) (codes "X") (edits.Remove (codes "-O2")), Accepted 1 1 (span 19 22 [] ∷ []) (Becomes (codes "F::= b -O2 -g \nX = \nF+=${v a -O2#-g\na.b ::= $(t \\\n -g) -g\t-g\n# x ; y : z = 1\n"))) ∷  -- more-172
    []

answers_5 : map (λ row. account row.0 row.1) rows_5 ≡ map (λ row. row.2) rows_5
answers_5 = refl

abbrev rows_6 : List (List ℕ × Edit × Account)
rows_6 =
    (codes "c: ;\nexport F !=\t-O2\\\n-g\\\n $(a\tb)#\n\ttrue \\\r\n\ttrue\n\ta\n\ta\nF :=-g \\\n    -g\\\n \ninclude: # c\n# \\\n n\nendif\noverride= \n", ChangeValue (One None) (codes "override") (edits.Remove (codes "-g")), NotMade 1 Absent) ∷  -- more-174
    (codes "c: a\nendif\n\tsay \"q\"\nF = $# | \n", ChangeValue (One None) (codes "F") (edits.Remove (codes "|")), Accepted 1 1 (span 26 28 [] ∷ []) (Becomes (codes "c: a\nendif\n\tsay \"q\"\nF = $# \n"))) ∷  -- more-181
    (codes "override \tdefine += \\\r\n\na.b= $x\\\n\t|\nF =\nF != $(s (b) a) a \\\n    a:b \ndefine := \tt \n", ChangeValue (One (Some 1)) (codes "F") (edits.Remove (codes "-g")), NotMade 1 Absent) ∷  -- more-185
    (codes "ifdef A\r\nexport F!= \\  -O2 \\\r\n \\\r\n a #\r\nelse\r\nF\\\r\n::= a:b -O2  \r\nendif\r\nd: ; true\r\n", ChangeValue (One (Some 2)) (codes "F") (edits.Remove (codes "a\\ b")), NotMade 1 Absent) ∷  -- more-186
    (codes "d&: a\n\t>a\nF += b  $(w \\\n a)\nd: ;\n\trm -rf x\n\ty\r\n\trm -f x\nF\\\n::= a$ \nF :=b b", ChangeValue (One (Some 1)) (codes "F") (edits.Remove (codes "$(w a)")), Accepted 1 1 (span 16 27 [] ∷ []) (Becomes (codes "d&: a\n\t>a\nF += b\nd: ;\n\trm -rf x\n\ty\r\n\trm -f x\nF\\\n::= a$ \nF :=b b"))) ∷  -- more-188
    (codes "override F\\\n= a:b \\\r\n -O2 # \\\n d\n", ChangeValue (One None) (codes "F") (edits.Remove (codes "a:b")), Accepted 1 1 (span 14 22 [] ∷ []) (Becomes (codes "override F\\\n= -O2 # \\\n d\n"))) ∷  -- more-191
    (codes "d: # c\n\tifdef Q\n\ttrue\\\n", ChangeValue (One (Some 0)) (codes "F") (edits.Remove (codes "-g")), NotMade 1 NoSuch) ∷  -- more-200
    (codes "d:\r\noverride X= ${v a \\\r\n-g \\ b \r\noverride+= \\\\ -O2 $(A -g) -g a#-g\r\n", ChangeValue (One (Some 0)) (codes "X") (edits.Remove (codes "${v a -g \\ b ")), NotMade 1 (BadArgument field.Word)) ∷  -- more-201
    (codes "a.b =\\\n -g \\\\\\\\# a \\\\\n", ChangeValue (One None) (codes "a.b") (edits.Remove (codes "-g")), Accepted 1 1 (span 8 11 [] ∷ []) (Becomes (codes "a.b =\\\n \\\\\\\\# a \\\\\n"))) ∷  -- more-202
    (codes "X =$(w \\\n a)\\\n\ta:b\ta:b\t-g # a \\\\", ChangeValue (One None) (codes "X") (edits.Remove (codes "-g")), Accepted 1 1 (span 22 25 [] ∷ []) (Becomes (codes "X =$(w \\\n a)\\\n\ta:b\ta:b # a \\\\"))) ∷  -- more-204
    (codes "ifdef A\nF=\t;\nendif\nc: a | b\n\t\ttrue\n\trm -f x\nelse\n\t a\nifdef A\noverride a.b =a\\\na \\\nb \\\n; b # \\\n d\nelse\nF?= -g ; -O2# \\\n d\nendif", ChangeValue (One (Some 2)) (codes "F") (edits.Remove (codes "-g")), Accepted 1 1 (span 106 109 [] ∷ []) (Becomes (codes "ifdef A\nF=\t;\nendif\nc: a | b\n\t\ttrue\n\trm -f x\nelse\n\t a\nifdef A\noverride a.b =a\\\na \\\nb \\\n; b # \\\n d\nelse\nF?= ; -O2# \\\n d\nendif"))) ∷  -- more-210
    (codes "ifdef A\nF\\\n= \nelse\nF+= $\\\\\n -O2 \nendif\n%.o: # c\n# \\\n n\n>>a\n> a\nifdef A\noverride F = a$\\ \nelse\nX\\\n+= $x#-g\nendif", ChangeValue (One (Some 2)) (codes "F") (edits.Remove (codes "$\\\\")), NotMade 1 (BadArgument field.Word)) ∷  -- more-211
    (codes "X= $(a\tb)\\\n a | $#\nexport F\\\n= a#-g\n", ChangeValue (One None) (codes "X") (edits.Remove (codes "$(a\tb)")), Accepted 1 1 (span 3 12 [] ∷ []) (Becomes (codes "X= a | $#\nexport F\\\n= a#-g\n"))) ∷  -- more-214
    (codes "F = -g \\\r\n    $\\ # c\r\n", ChangeValue (One None) (codes "F") (edits.Remove (codes "-g")), Accepted 1 1 (span 4 14 [] ∷ []) (Becomes (codes "F = $\\ # c\r\n"))) ∷  -- more-217
    (codes "%: ;\n>rm -f x\nc: # c\n>rm -f x>rm -rf x\nX ?= a | $(A -g) -g $(s (b) a)#-g\nc: ;\n\ta\n # n\nc: a\n\t>a\n\ttrue", ChangeValue (One None) (codes "X") (edits.Remove (codes "$(A -g)")), Accepted 1 1 (span 47 55 [] ∷ []) (Becomes (codes "%: ;\n>rm -f x\nc: # c\n>rm -f x>rm -rf x\nX ?= a | -g $(s (b) a)#-g\nc: ;\n\ta\n # n\nc: a\n\t>a\n\ttrue"))) ∷  -- more-220
    (codes "a.b = a b\\\r\n-O2\ta$\\\\\n\t${c}\noverride:= b \\\\\\\\ a # \\\n d\nX =-g =\\\na:b -g $\n", ChangeValue (One None) (codes "X") (edits.Remove (codes "-g")), NotMade 1 OpenValue) ∷  -- more-223
    (codes "F =-O2\nendef\\\n\nX\\\n+= \\\n    -g \\\n \\\n a\\$ a# c\n", ChangeValue (One None) (codes "X") (edits.Remove (codes "a\\$ a")), Accepted 1 1 (span 29 41 [] ∷ []) (Becomes (codes "F =-O2\nendef\\\n\nX\\\n+= \\\n    -g# c\n"))) ∷  -- more-230
    (codes "%.o&: a | b\n\tsay \"q\"\n\ta # b\nc:\n\trm -f x\n\tx \\ y\n\t\ttrue\n", ChangeValue (One None) (codes "X$ ") (edits.Remove (codes "-g")), NotMade 1 (BadArgument field.Name)) ∷  -- more-234
    (codes "include&: a\r\n\t\ttrue\n\ttrue\nifdef A\nX =  \n", ChangeValue (One None) (codes "X") (edits.Remove (codes "x=1")), NotMade 1 Absent) ∷  -- more-235
    (codes "export private define X =\nd: a | b\n:\0\nc: ; true\n \n", ChangeValue (One None) (codes "a\\=") (edits.Remove (codes "-g")), NotMade 1 (BadArgument field.Name)) ∷  -- more-238
    (codes "a.b= -O2\nF=b b \\\n \\\n # c\nc:\n># n\n>a # b\n", ChangeValue (One (Some 0)) (codes "a.b") (edits.Remove (codes "-O2")), NotMade 1 NoSuch) ∷  -- more-239
    (codes "F=$(w \\\n a)\nc c&: a\n\ta\n\t\nc: # c\nF\\\n=a \\\n; b a\\ \\\n\\\n\n", ChangeValue (One None) (codes "F") (edits.Remove (codes "$(w a)")), Accepted 1 1 (span 2 11 [] ∷ []) (Becomes (codes "F=\nc c&: a\n\ta\n\t\nc: # c\nF\\\n=a \\\n; b a\\ \\\n\\\n\n"))) ∷  -- more-241
    (codes "F = -g ${c} \\\r\n b \r\nd: a\r\nendif\r\nc::\r\n\ttrue\r\n\t\ttrue\r\n\ttrue\r\n", ChangeValue (One None) (codes "F") (edits.Remove (codes "b")), Accepted 1 1 (span 11 17 [] ∷ []) (Becomes (codes "F = -g ${c} \r\nd: a\r\nendif\r\nc::\r\n\ttrue\r\n\t\ttrue\r\n\ttrue\r\n"))) ∷  -- more-244
    (codes "X:=x=1\\\n$x  $\\\n \\\n    a \\\n \\\n b\nF\\\n= $(t \\\n -g) \n", ChangeValue (One (Some 1)) (codes "F") (edits.Remove (codes "$(t -g)")), Accepted 1 1 (span 37 48 [] ∷ []) (Becomes (codes "X:=x=1\\\n$x  $\\\n \\\n    a \\\n \\\n b\nF\\\n= \n"))) ∷  -- more-249
    (codes "ifdef A\na.b ::= \\\n-g a\\$\\\n -O2#-g\nelse\nX = a \nendif\n", ChangeValue (One None) (codes "X") (edits.Remove (codes "a")), Accepted 1 1 (span 43 45 [] ∷ []) (Becomes (codes "ifdef A\na.b ::= \\\n-g a\\$\\\n -O2#-g\nelse\nX = \nendif\n"))) ∷  -- more-250
    (codes "export F ?= $ \\\n a\\\n b a x$(a  b)\\\n\t\nF=-g", ChangeValue (One (Some 1)) (codes "F") (edits.Remove (codes "x$(a  b)")), Accepted 1 1 (span 24 33 [] ∷ []) (Becomes (codes "export F ?= $ \\\n a\\\n b a\\\n\t\nF=-g"))) ∷  -- more-256
    (codes "export override = | ; \\\nb\nifdef A\nF= a\\  # c\nendif\n", ChangeValue (One (Some 1)) (codes "F") (edits.Remove (codes "a\\ ")), NotMade 1 (BadArgument field.Word)) ∷  -- more-259
    (codes ".RECIPEPREFIX = >\nF =\\\n\t-g \\\n \\\n -O2\\\n\\\n$(w \\\n a)\nifdef A\nX\\\n+= -g \\\n \\\n -g  = \nendif\n\t#c \\\n d\nX =# c\\", ChangeValue (One (Some 1)) (codes "F") (edits.Remove (codes "-g")), Accepted 1 1 (span 24 33 [] ∷ []) (Becomes (codes ".RECIPEPREFIX = >\nF =\\\n\t-O2\\\n\\\n$(w \\\n a)\nifdef A\nX\\\n+= -g \\\n \\\n -g  = \nendif\n\t#c \\\n d\nX =# c\\"))) ∷  -- more-262
    (codes "\tc # \\", ChangeValue (One None) (codes "override") (edits.Remove (codes "${c}")), NotMade 1 NoSuch) ∷  -- more-265
    (codes "F?=$\\\n a:b\\\nb \\\r\n -g  x$(a  b)\n", ChangeValue (One None) (codes "F") (edits.Remove (codes "$ a:b")), Accepted 1 1 (span 3 12 [] ∷ []) (Becomes (codes "F?=b \\\r\n -g  x$(a  b)\n"))) ∷  -- more-269
    (codes "F = -g -g  x=1\\\r\n\\\r\n-g \\\r:-O2# c\r\nc: ; true\r\nF != a |# a \\\\", ChangeValue (One None) (codes "F") (edits.Remove (codes "|")), Accepted 1 1 (span 51 53 [] ∷ []) (Becomes (codes "F = -g -g  x=1\\\r\n\\\r\n-g \\\r:-O2# c\r\nc: ; true\r\nF != a# a \\\\"))) ∷  -- more-272
    (codes "override = a x=1\\\n a\\$\n", ChangeValue (One None) (codes ".RECIPEPREFIX") (edits.Remove (codes "$(s (b) a)")), NotMade 1 Reserved) ∷  -- more-274
    (codes "ifdef A\noverride F ::= a:b x$(a  b) \\\nx=1 # \\\n d\nendif\nc c:\n>rm -rf x\n>a\n>ifdef Q\n", ChangeValue (One None) (codes "F") (edits.Remove (codes "x$(a  b)")), Accepted 1 1 (span 26 35 [] ∷ []) (Becomes (codes "ifdef A\noverride F ::= a:b \\\nx=1 # \\\n d\nendif\nc c:\n>rm -rf x\n>a\n>ifdef Q\n"))) ∷  -- more-277
    (codes "c:\r\n>rm -rf x\r\n>t\r\n>t\r\nifdef A\r\nc: a\r\n\ta \\\r\n\tb\r\nc:\r\n\tifdef Q\r\n\t# n\r\nifdef A\r\nX\\\r\n:= b\\\r\n\t;\\\r\n| \r\nendif\r\n", ChangeValue (One None) (codes "F") (edits.Remove (codes "a:b")), NotMade 1 NoSuch) ∷  -- more-280
    (codes "endef#c\nd: # c\n\trm -f x\n# \\\n n\n\tb\n\t\ttrue\nexport F = a", ChangeValue (One (Some 2)) (codes "F") (edits.Remove (codes "a")), NotMade 1 NoSuch) ∷  -- more-283
    (codes "c: # c\n\ta # b\n\tb\n", ChangeValue (One (Some 2)) (codes "X") (edits.Remove (codes "x=1")), NotMade 1 NoSuch) ∷  -- more-290
    (codes "X = -g\\\n\\\na:b -O2 -g -O2 \n.RECIPEPREFIX = $x", ChangeValue (One None) (codes "X") (edits.Remove (codes "a:b")), NotMade 1 RecipePrefix) ∷  -- more-292
    (codes "a.b ::=-g#\nc: # c\nelse\n\n\0\\?\nexport a.b = -g ", ChangeValue (One (Some 2)) (codes "a.b") (edits.Remove (codes "-g")), Accepted 1 1 (span 41 44 [] ∷ []) (Becomes (codes "a.b ::=-g#\nc: # c\nelse\n\n\0\\?\nexport a.b = "))) ∷  -- more-293
    (codes "c: # c\r\n\ta # b\r\n\ta # b\r\n\tsay \"q\"\r\nX = \\# -O2 # c\r\n", ChangeValue (One (Some 0)) (codes "X") (edits.Remove (codes "\\#")), NotMade 1 NoSuch) ∷  -- more-304
    (codes " \\\n\na.b= -O2#\nifdef A\nF\\\n?= a b $(a b) -g\\\n;\nendif\nX := -g # a \\\\\nX\\\n:= -g \\\n \\\n ${c}\\\n\t= -O2", ChangeValue (One None) (codes "F") (edits.Remove (codes "-g")), Accepted 1 1 (span 38 41 [] ∷ []) (Becomes (codes " \\\n\na.b= -O2#\nifdef A\nF\\\n?= a b $(a b)\\\n;\nendif\nX := -g # a \\\\\nX\\\n:= -g \\\n \\\n ${c}\\\n\t= -O2"))) ∷  -- more-308
    (codes "X := a:b\t-g \\\r\n x=1 \noverride a.b= $ \nc c&: ;\n>ifdef Q\n>>a\n>\n", ChangeValue (One None) (codes "a.b") (edits.Remove (codes "$ ")), NotMade 1 (BadArgument field.Word)) ∷  -- more-313
    (codes "F = a  $# a#-g\n\\\n# x ; y : z = 1\nc %.o: a\n\ty\r\n", ChangeValue (One None) (codes "F") (edits.Remove (codes "a")), Accepted 1 1 (span 4 7 [] ∷ span 9 11 [] ∷ []) (Becomes (codes "F = $##-g\n\\\n# x ; y : z = 1\nc %.o: a\n\ty\r\n"))) ∷  -- more-317
    (codes "override ?=  -g\r\n", ChangeValue (One None) (codes "override") (edits.Remove (codes "-g")), Accepted 1 1 (span 13 15 [] ∷ []) (Becomes (codes "override ?=  \r\n"))) ∷  -- more-319
    (codes "X ?=  \n", ChangeValue (One None) (codes "X") (edits.Remove (codes "-O2")), NotMade 1 Absent) ∷  -- more-323
    (codes "override != a:b# \\\n d\nc: ; true\n\tx \\ y\n\tifdef Q\nX\\\n=;\\\n \nx.o: ; true\n\t# n\n\t\ttrue\n\tx \\ y\n\trm -f x\nifdef A\nX = -O2 \\\n\\ a:b -O2 $\\\nendif\n", ChangeValue (One (Some 2)) (codes "X") (edits.Remove (codes "-O2")), Accepted 1 1 (span 109 115 [] ∷ span 120 124 [] ∷ []) (Becomes (codes "override != a:b# \\\n d\nc: ; true\n\tx \\ y\n\tifdef Q\nX\\\n=;\\\n \nx.o: ; true\n\t# n\n\t\ttrue\n\tx \\ y\n\trm -f x\nifdef A\nX = \\ a:b $\\\nendif\n"))) ∷  -- more-325
    (codes "F ?= $\\\\\r\n; # \\\r\n d\r\nc: a | b\r\n\t\ttrue\r\n-include2\t:::$(f {) a #\\\\\r\n", ChangeValue (One (Some 4294967295)) (codes "F") (edits.Remove (codes "$\\\\")), NotMade 1 (BadArgument field.Word)) ∷  -- more-330
    (codes "F = $(s (b) a)\\\r\n\\\n$(a\tb) a:b", ChangeValue (One None) (codes "F") (edits.Remove (codes "$(a\tb)")), Accepted 1 1 (span 14 25 [] ∷ []) (Becomes (codes "F = $(s (b) a) a:b"))) ∷  -- more-336
    (codes "F = -g b x$(a  b) # c\n\t# \\\n", ChangeValue (One None) (codes "F") (edits.Remove (codes "-g")), Accepted 1 1 (span 4 7 [] ∷ []) (Becomes (codes "F = b x$(a  b) # c\n\t# \\\n"))) ∷  -- more-340
    (codes "F := b -O2\nF !=  \noverride= ;\nF\\\n+= -g \\\n    a:b# c\n", ChangeValue (One None) (codes "override") (edits.Remove (codes ";")), Accepted 1 1 (span 28 29 [] ∷ []) (Becomes (codes "F := b -O2\nF !=  \noverride= \nF\\\n+= -g \\\n    a:b# c\n"))) ∷  -- more-344
    (codes "F != b a\nX::=a  b# \\\n d\nX = $x a:b -g ; $(w \\\n a)\nF ?= \\\n \\\n b Ã© a# \\\n d\nF += \\\n    a:b -O2 $$\n", ChangeValue (One (Some 0)) (codes "F") (edits.Remove (codes "Ã©")), NotMade 1 NoSuch) ∷  -- more-345
    []

answers_6 : map (λ row. account row.0 row.1) rows_6 ≡ map (λ row. row.2) rows_6
answers_6 = refl

abbrev rows_7 : List (List ℕ × Edit × Account)
rows_7 =
    (codes "F := | a -g -g\\\n\t$# define\n", ChangeValue (One None) (codes "F") (edits.Remove (codes "define")), Accepted 1 1 (span 19 26 [] ∷ []) (Becomes (codes "F := | a -g -g\\\n\t$#\n"))) ∷  -- more-347
    (codes "c: # c\nifeq (a,b)\n>a # b\n>a\\\n b\na.b ?=\\\n\ta$\\  -O2# \\\n d\\\n", ChangeValue (One (Some 0)) (codes "a.b") (edits.Remove (codes "a$\\")), NotMade 1 (BadArgument field.Word)) ∷  -- more-348
    (codes "c:\n", ChangeValue (One None) (codes "F") (edits.Remove (codes "-g")), NotMade 1 NoSuch) ∷  -- more-350
    (codes "ifdef A\nF\\\n= a a $# \\\n \\\n $# -g\nelse\nF= -g  a:b -g\nendif\nifdef A\nF\\\n= -g a:b \nendif\nF\\\n= $x -g\tb\\\n\tb a:b\n", ChangeValue (One (Some 4)) (codes "F") (edits.Remove (codes "a:b")), Accepted 1 1 (span 100 104 [] ∷ []) (Becomes (codes "ifdef A\nF\\\n= a a $# \\\n \\\n $# -g\nelse\nF= -g  a:b -g\nendif\nifdef A\nF\\\n= -g a:b \nendif\nF\\\n= $x -g\tb\\\n\tb\n"))) ∷  -- more-352
    (codes "export F\\\r\n=\\\r\n;\\\r\n -O2 $(a\tb) #\r\nd c: ; true\r\nifdef A\r\n\ta\\\r\n b\r\nF==\r\nifdef A\r\nF\\\r\n=\\ b\\\r\n-O2\r\nelse\r\na.b = \\\r\n    $(w \\\r\n a) \\\r\n $(t \\\r\n -g) \\\r\n \\ b  a\\ \\\r\n\\\r\nb#-g\r\nendif\r\n", ChangeValue (One (Some 1)) (codes "F") (edits.Remove (codes "-O2")), Accepted 1 1 (span 16 23 [] ∷ []) (Becomes (codes "export F\\\r\n=\\\r\n; $(a\tb) #\r\nd c: ; true\r\nifdef A\r\n\ta\\\r\n b\r\nF==\r\nifdef A\r\nF\\\r\n=\\ b\\\r\n-O2\r\nelse\r\na.b = \\\r\n    $(w \\\r\n a) \\\r\n $(t \\\r\n -g) \\\r\n \\ b  a\\ \\\r\n\\\r\nb#-g\r\nendif\r\n"))) ∷  -- more-358
    (codes "c: ; true\n\tt\n\tifdef Q\n\ttrue\n\t\nF= a \\\r\n #-g\nc::\n>\n>rm -rf x\n>>a\n>true\nexport F= -g \\\n \\\n $(a\tb)\\\n\\\n$(s (b) a)\\\n\\\n$x -O2 \n", ChangeValue (One (Some 2)) (codes "F") (edits.Remove (codes "-g")), Accepted 1 1 (span 79 88 [] ∷ []) (Becomes (codes "c: ; true\n\tt\n\tifdef Q\n\ttrue\n\t\nF= a \\\r\n #-g\nc::\n>\n>rm -rf x\n>>a\n>true\nexport F= $(a\tb)\\\n\\\n$(s (b) a)\\\n\\\n$x -O2 \n"))) ∷  -- more-362
    (codes "X =a:b \\\n \\\n a:b #\nc: ;\n> a\n>a \\\n\tb\n>y", ChangeValue (One None) (codes "X") (edits.Remove (codes "a:b")), Accepted 1 1 (span 3 17 [] ∷ []) (Becomes (codes "X =#\nc: ;\n> a\n>a \\\n\tb\n>y"))) ∷  -- more-364
    (codes " \\\n\nF =-g\\\n\\\n$(A -g)\nX= Ã© a a\\\\", ChangeValue (One None) (codes "F") (edits.Remove (codes "${c}")), NotMade 1 Absent) ∷  -- more-369
    (codes "ifdef A\r\nexport X += x=1 \\\r\n    b b ${c}#-g\r\nelse\r\nexport F\\\r\n::= $\\ -g\\\r\n = b\t\r\nendif\r\nc&: ;\r\n\ta \\\r\n\tb\r\n\ttrue\r\n\ta\\\\", ChangeValue (One None) (codes "X") (edits.Remove (codes "a$ b")), NotMade 1 Absent) ∷  -- more-372
    (codes "\t#c \\\n d\nF ?= b\n", ChangeValue (One (Some 4294967295)) (codes "F") (edits.Remove (codes "$(A -g)")), NotMade 1 NoSuch) ∷  -- more-373
    (codes "F =$(w \\\n a) b\\\n a\nifdef A\nX ?= = b a\nelse\nF= a $(t \\\n -g) \\\n \\\n Ã©\nendif\n.RECIPEPREFIX ?= >\n", ChangeValue (One None) (codes "X") (edits.Remove (codes "a")), NotMade 1 RecipePrefix) ∷  -- more-378
    (codes "F = #\nd: # c\n\tsay \"q\"\na.b = $ \t= \n", ChangeValue (One None) (codes "a.b") (edits.Remove (codes "=")), NotMade 1 OpenValue) ∷  -- more-379
    (codes ".RECIPEPREFIX = >\na.b\\\n?= b\nF = a\\  -g -O2 -g \\\r\n $x\nX\\\n+= -g |\\\n $(A -g) \\\n    -O2 a# \\\n d", ChangeValue (One None) (codes "X") (edits.Remove (codes "a")), Accepted 1 1 (span 83 85 [] ∷ []) (Becomes (codes ".RECIPEPREFIX = >\na.b\\\n?= b\nF = a\\  -g -O2 -g \\\r\n $x\nX\\\n+= -g |\\\n $(A -g) \\\n    -O2# \\\n d"))) ∷  -- more-381
    (codes "override:= $(a\tb) $x ; b $(u\r\noverride X = a \r\n", ChangeValue (One (Some 0)) (codes "X") (edits.Remove (codes "a")), NotMade 1 NoSuch) ∷  -- more-383
    (codes "a.b:::= \t # c\n\t# x ; y : z = 1\nc:\n>b\n>\n", ChangeValue (One None) (codes "a.b") (edits.Remove (codes "-O2")), NotMade 1 Absent) ∷  -- more-387
    (codes ".RECIPEPREFIX = >\n.RECIPEPREFIX = >\nF = x=1 -g \\\nb# c\n.RECIPEPREFIX = >\ninclude: ; true\n>rm -f x\n>a\nifdef A\nF = | $(s (b) a) \\# $(t \\\n -g) \\\n \\\n $\\\nendif\n", ChangeValue (One (Some 2)) (codes "F") (edits.Remove (codes "|")), Accepted 1 1 (span 112 114 [] ∷ []) (Becomes (codes ".RECIPEPREFIX = >\n.RECIPEPREFIX = >\nF = x=1 -g \\\nb# c\n.RECIPEPREFIX = >\ninclude: ; true\n>rm -f x\n>a\nifdef A\nF = $(s (b) a) \\# $(t \\\n -g) \\\n \\\n $\\\nendif\n"))) ∷  -- more-390
    (codes "c:\n\t\n\trm -f x\nF !=\t-O2#\nc:\nifeq (a,b)\n# \\\n n\n", ChangeValue (One None) (codes "F") (edits.Remove (codes "-O2")), Accepted 1 1 (span 19 22 [] ∷ []) (Becomes (codes "c:\n\t\n\trm -f x\nF !=\t#\nc:\nifeq (a,b)\n# \\\n n\n"))) ∷  -- more-396
    (codes "endef\\\n\nX = | \\\n \\\n $(a\tb)\\\n\t", ChangeValue (One (Some 4294967295)) (codes "X") (edits.Remove (codes "$(a\tb)")), NotMade 1 NoSuch) ∷  -- more-397
    (codes "F = \ninclude: ;\nF = ;\\", ChangeValue (One (Some 2)) (codes "F") (edits.Remove (codes ";\\")), NotMade 1 (BadArgument field.Word)) ∷  -- more-400
    (codes "ifdef A\nF = \\\nb b x=1\nelse\noverride override = \nendif", ChangeValue (One None) (codes "override") (edits.Remove (codes "-O2")), NotMade 1 Absent) ∷  -- more-413
    (codes "override\t:=\\\r\n\n", ChangeValue (One None) (codes "override") (edits.Remove (codes "$(t -g)")), NotMade 1 Absent) ∷  -- more-416
    (codes "X\\\n::= | \\\\b\tb \n", ChangeValue (One None) (codes "X") (edits.Remove (codes "$ b")), NotMade 1 Absent) ∷  -- more-420
    (codes "#\\\\\\\n\nifdef A\na.b = \\## a \\\\\nelse\nX = $$ a\\\n\\\na\nendif\nc: a\nifdef A\noverride\\\n?= $ ; a x=1#-g\nendif", ChangeValue (One None) (codes "a.b") (edits.Remove (codes "\\#")), Accepted 1 1 (span 20 22 [] ∷ []) (Becomes (codes "#\\\\\\\n\nifdef A\na.b = # a \\\\\nelse\nX = $$ a\\\n\\\na\nendif\nc: a\nifdef A\noverride\\\n?= $ ; a x=1#-g\nendif"))) ∷  -- more-421
    (codes "X ?= a:b b =  -g\nd: ;\ndefine$\tb\n\ta\n", ChangeValue (One None) (codes "X") (edits.Remove (codes "-g")), Accepted 1 1 (span 12 16 [] ∷ []) (Becomes (codes "X ?= a:b b =\nd: ;\ndefine$\tb\n\ta\n"))) ∷  -- more-425
    (codes "ifdef A\noverride F= b\\\n\\\n$## \\\n d\nelse\nF ?=a:b \\\n    -g\\\n\ta\\\n\\\n\nendif\nX=-g\nF ::=  # c\nF != Ã©\\\n\t${c} -g#-g\n", ChangeValue (One (Some 3)) (codes "F") (edits.Remove (codes "$(a b)")), NotMade 1 Absent) ∷  -- more-429
    (codes "F\\\r\n= \\\r\nb\r\nF = ; $  -g\r\nX!= b\tb  a:b \\\r\n    ; x$(a  b) # a \\\\", ChangeValue (One (Some 2)) (codes "X") (edits.Remove (codes ";")), NotMade 1 NoSuch) ∷  -- more-441
    (codes "c: ; true\n># n\nexport X= \\ ; b\ninclude: ; true\nifdef A\n\ttrue\nF\\\n+= x=1 \\\n-g\nc: ;\n\tb\n\t>a", ChangeValue (One None) (codes "F") (edits.Remove (codes "x=1")), Accepted 1 1 (span 67 73 [] ∷ []) (Becomes (codes "c: ; true\n># n\nexport X= \\ ; b\ninclude: ; true\nifdef A\n\ttrue\nF\\\n+= -g\nc: ;\n\tb\n\t>a"))) ∷  -- more-442
    (codes "c: # c\n", ChangeValue (One None) (codes "F") (edits.Remove (codes "a:b")), NotMade 1 NoSuch) ∷  -- more-443
    (codes ".RECIPEPREFIX = >\nX =  \nd&: ;\nifdef A\nF=\\\n b \nelse\nF\\\n=  \nendif\na.b\\\n::=x$(a  b)#\n", ChangeValue (One None) (codes "$(X)") (edits.Remove (codes "a\\")), NotMade 1 (BadArgument field.Name)) ∷  -- more-445
    (codes "F != -O2 \\\n \\\n $(s (b) a) ${v a\noverride ?=\\\\\\\\\\\nb \\\noverride= a:b a  x$(a  b)\n", ChangeValue (One None) (codes "F") (edits.Remove (codes "-O2")), NotMade 1 OpenValue) ∷  -- more-446
    (codes ".RECIPEPREFIX = >\r\nifdef A\r\nexport F ?= \t\r\nelse\r\na.b=b\r\nendif\r\n", ChangeValue (One None) (codes "F") (edits.Remove (codes "-g")), NotMade 1 Absent) ∷  -- more-449
    (codes "F!= a:b\r\n", ChangeValue (One (Some 4294967295)) (codes "F") (edits.Remove (codes "b")), NotMade 1 NoSuch) ∷  -- more-456
    (codes "F != |\\\r\n\tb \\\r\n \\\r\n \\# \r\nX !=a:b \\\r\n# a \\\\\r\n", ChangeValue (One None) (codes "F") (edits.Remove (codes "b")), Accepted 1 1 (span 6 11 [] ∷ []) (Becomes (codes "F != | \\\r\n \\\r\n \\# \r\nX !=a:b \\\r\n# a \\\\\r\n"))) ∷  -- more-457
    (codes "F = b = -O2 a\\\n\t|\\", ChangeValue (One None) (codes "F") (edits.Remove (codes "-O2")), NotMade 1 OpenValue) ∷  -- more-458
    (codes "a.b = a b -g\ta# \\\n d\nifdef A\nX\\\n::= \\\r\n -O2 x$(a  b) a:b $(a\tb) $(t \\\n -g) \nelse\nF+= -g a:b\nendif\nX = \n", ChangeValue (One (Some 1)) (codes "X") (edits.Remove (codes "-O2")), Accepted 1 1 (span 40 44 [] ∷ []) (Becomes (codes "a.b = a b -g\ta# \\\n d\nifdef A\nX\\\n::= \\\r\n x$(a  b) a:b $(a\tb) $(t \\\n -g) \nelse\nF+= -g a:b\nendif\nX = \n"))) ∷  -- more-460
    (codes "X = -g -O2 \n", ChangeValue (One None) (codes "X") (edits.Remove (codes "-O2")), Accepted 1 1 (span 6 10 [] ∷ []) (Becomes (codes "X = -g \n"))) ∷  -- more-466
    (codes "override F= a $(s (b) a) | -O2#-g", ChangeValue (One None) (codes "F") (edits.Remove (codes "|")), Accepted 1 1 (span 24 26 [] ∷ []) (Becomes (codes "override F= a $(s (b) a) -O2#-g"))) ∷  -- more-469
    (codes "ifdef A\nX\\\n= a\\\n\\\n$# a -O2# a \\\\\nendif\n", ChangeValue (One None) (codes "X") (edits.Remove (codes "a")), Accepted 1 1 (span 13 18 [] ∷ span 20 22 [] ∷ []) (Becomes (codes "ifdef A\nX\\\n= $# -O2# a \\\\\nendif\n"))) ∷  -- more-470
    (codes "c: ; true\r\nifdef A\r\nX = $$# a \\\\\r\nendif\r\nc&: a | b\r\n\t a\r\n\tb\r\n\ta\\\\\r\n", ChangeValue (One None) (codes "X") (edits.Remove (codes "$$")), Accepted 1 1 (span 24 26 [] ∷ []) (Becomes (codes "c: ; true\r\nifdef A\r\nX = # a \\\\\r\nendif\r\nc&: a | b\r\n\t a\r\n\tb\r\n\ta\\\\\r\n"))) ∷  -- more-472
    (codes "X := $(u\ta:b\nF = \\# $(w \\\n a)\ta:b\\\n-O2 a:b\n", ChangeValue (One None) (codes "X") (edits.Remove (codes "$(u\ta:b")), NotMade 1 (BadArgument field.Word)) ∷  -- more-474
    (codes "override ?= -g a:b\\\n\tb \\\n    b \\\n    a \\\n    #-g\n", ChangeValue (One None) (codes "override") (edits.Remove (codes "-g")), Accepted 1 1 (span 12 15 [] ∷ []) (Becomes (codes "override ?= a:b\\\n\tb \\\n    b \\\n    a \\\n    #-g\n"))) ∷  -- more-479
    (codes "override a.b:= b\\\r\n\\\r\n-g  a:b#\r\nc:: ;\r\n\t# n\r\n\t>a\r\n\t\ttrue\r\nX:= -O2 \\\r\n -g \\\r\n \\\r\n a\r\nc: a\r\nexport F = a # c\r\n", ChangeValue (One (Some 0)) (codes "a.b") (edits.Remove (codes "b")), NotMade 1 NoSuch) ∷  -- more-480
    (codes "$(X) \\\n  :::= x  y\t$(w \\\n  a \nc: ;\n\tsay \"q\"\n\t\n\ttrue\noverride::= -g -O2 # \\\n d\nF= ${v a\\\n\ta a\\ \nF ::= \\\n    a\n", ChangeValue (One (Some 0)) (codes "override") (edits.Remove (codes "-g")), NotMade 1 NoSuch) ∷  -- more-481
    (codes "a.b\\\n= | \\\n \\\n =\\\n\t$\\ -g a:b \nc:: a\n\ta\n\trm -f x\nifdef A\n\ttrue\nF :=-g\\\n$x\nF := $\\\n-g a\\\\ \n", ChangeValue (One None) (codes "a.b") (edits.Remove (codes "-g")), NotMade 1 OpenValue) ∷  -- more-483
    (codes "%.o:: a | b\r\n\ta\r\n\t\r\nifeq (a,b)\r\n\ta\\\r\n>b\r\nc: a | b\r\n\t>a\r\n\ta\\\r\n>b\r\nF != -O2\\\r\n\ta\\$\r\n\t\r\n", ChangeValue (One (Some 1)) (codes "F") (edits.Remove (codes "-O2")), NotMade 1 OpenValue) ∷  -- more-485
    (codes ".RECIPEPREFIX = >\r\nifdef A\r\nX ::= -O2# \\\r\n d\r\nendif\r\nd: ;\r\n\ta\r\n\ttrue\r\n\\\r\n#\\\\", ChangeValue (One None) (codes "X") (edits.Remove (codes "-O2")), Accepted 1 1 (span 34 37 [] ∷ []) (Becomes (codes ".RECIPEPREFIX = >\r\nifdef A\r\nX ::= # \\\r\n d\r\nendif\r\nd: ;\r\n\ta\r\n\ttrue\r\n\\\r\n#\\\\"))) ∷  -- more-486
    (codes ".RE\rPRFIX = >$", ChangeValue (One None) (codes "o-$(a b)") (edits.Remove []), NotMade 1 (BadArgument field.Name)) ∷  -- more-489
    (codes ".RECIPEPREFIX = >\nc: ; true\nF = -O2 $$ \\\na$\\ -g x$(a  b)# \\\n d\n", ChangeValue (One None) (codes "F") (edits.Remove (codes "-O2")), Accepted 1 1 (span 32 36 [] ∷ []) (Becomes (codes ".RECIPEPREFIX = >\nc: ; true\nF = $$ \\\na$\\ -g x$(a  b)# \\\n d\n"))) ∷  -- more-492
    (codes "include: a | b\n\tifdef Q\nF\\\n= -O2#-g\nc: a | b\n \n\t>a\n\t# n\n", ChangeValue (One None) (codes "F") (edits.Remove (codes "-O2")), Accepted 1 1 (span 29 32 [] ∷ []) (Becomes (codes "include: a | b\n\tifdef Q\nF\\\n= #-g\nc: a | b\n \n\t>a\n\t# n\n"))) ∷  -- more-497
    (codes "override F !=\t  \nX!= -g\\\n\\\na \\\r\n ", ChangeValue (One None) (codes "X") (edits.Remove (codes "a")), Accepted 1 1 (span 23 28 [] ∷ []) (Becomes (codes "override F !=\t  \nX!= -g \\\r\n "))) ∷  -- more-498
    []

answers_7 : map (λ row. account row.0 row.1) rows_7 ≡ map (λ row. row.2) rows_7
answers_7 = refl

abbrev rows_8 : List (List ℕ × Edit × Account)
rows_8 =
    (codes "override F ?= -g \\ b \\\n\na.b ?= a\\  \\\n    -g \\\r\n $(u -O2", ChangeValue (One None) (codes "F") (edits.Remove (codes "\\ b")), Accepted 1 1 (span 16 20 [] ∷ []) (Becomes (codes "override F ?= -g \\\n\na.b ?= a\\  \\\n    -g \\\r\n $(u -O2"))) ∷  -- more-499
    (codes "X\\\n!=$x $(A -g) |# c\n%.o: ; true\n\ttrue\n\ttrue \\\r\n\ttrue\n\t\ttrue\n\\\n# c\n", ChangeValue (One None) (codes "X") (edits.Remove (codes "-O2")), NotMade 1 Absent) ∷  -- more-500
    (codes "ifdef A\r\nX\\\r\n= -O2 a\r\nelse\r\noverride a.b\\\r\n=$# $(s (b) a)\\\r\n b# a \\\\\r\nendif\r\nd: a | b\r\n>true\r\n>a \\\r\n\tb\r\nF\\\r\n= \\\r\n a:b b -g =#-g\r\nifdef A\r\nF+= -g \\\r\n \\\r\n b $# ; \r\nendif\r\n", ChangeValue (One None) (codes "a.b") (edits.Remove (codes "$(s (b) a)")), Accepted 1 1 (span 46 57 [] ∷ []) (Becomes (codes "ifdef A\r\nX\\\r\n= -O2 a\r\nelse\r\noverride a.b\\\r\n=$#\\\r\n b# a \\\\\r\nendif\r\nd: a | b\r\n>true\r\n>a \\\r\n\tb\r\nF\\\r\n= \\\r\n a:b b -g =#-g\r\nifdef A\r\nF+= -g \\\r\n \\\r\n b $# ; \r\nendif\r\n"))) ∷  -- more-515
    (codes "X = #-g\r\nF= -g -g $x\r\nF= ;#-g", ChangeValue (One (Some 1)) (codes "X") (edits.Remove (codes "x$(a  b)")), NotMade 1 Absent) ∷  -- more-516
    (codes "c:: a\n\t\\\n\n\trm -f x\n\trm -f x\n\tt\nifdef A\noverride\\\n:= -g\\\n-g \\\r\n =\nelse\nX != $(u# a \\\\\nendif\n", ChangeValue (One None) (codes "X") (edits.Remove (codes "$(u# a \\\\")), NotMade 1 (BadArgument field.Word)) ∷  -- more-517
    (codes "F ?=\\ b \\\r\n -g# c\n", ChangeValue (One None) (codes "Y!") (edits.Remove (codes "a$ b")), NotMade 1 (BadArgument field.Name)) ∷  -- more-520
    (codes "override F ?=b  $x -O2 -g $(a\tb) \\\n \\\n \nexport F= a\nc: # c\nF = -O2  x=1\ta#-g\nF = a a $  |\n", ChangeValue (One None) (codes "F") (edits.Remove (codes "a")), NotMade 1 (Ambiguous 4)) ∷  -- more-523
    (codes "X ::= -g# c\n", ChangeValue (One None) (codes "X") (edits.Remove (codes "-g")), Accepted 1 1 (span 6 8 [] ∷ []) (Becomes (codes "X ::= # c\n"))) ∷  -- more-525
    (codes "d:\n # n\n\tt\n\trm -f x\n\ta\\\n b\nF\\\n!= x$(a  b) -O2\nc::\n>rm -rf x\n>a\n>y\r\n\\\na&b\t$(p #) : %.c \\\n:%.o \t$(p #)\noverride += a:b # a \\\\", ChangeValue (One None) (codes "F") (edits.Remove (codes "x$(a  b)")), Accepted 1 1 (span 33 42 [] ∷ []) (Becomes (codes "d:\n # n\n\tt\n\trm -f x\n\ta\\\n b\nF\\\n!= -O2\nc::\n>rm -rf x\n>a\n>y\r\n\\\na&b\t$(p #) : %.c \\\n:%.o \t$(p #)\noverride += a:b # a \\\\"))) ∷  -- more-528
    (codes "ifdef A\r\na.b = a\\ \\\r\n\t-g\t\r\nelse\r\na.b =; $  b\\\r\n\\\r\n\\\r\nendif\r\n", ChangeValue (One (Some 1)) (codes "a.b") (edits.Remove (codes "$ ")), NotMade 1 (BadArgument field.Word)) ∷  -- more-533
    (codes "X= x$(a  b) \\\r\n    ; \\\n    b\nX:= a:b \\\n-O2 \\\na \nc: # c\n\t# n\n\trm -f x\n\t>a\nelse", ChangeValue (One (Some 1)) (codes "X") (edits.Remove (codes ";")), Accepted 1 1 (span 11 20 [] ∷ []) (Becomes (codes "X= x$(a  b) \\\n    b\nX:= a:b \\\n-O2 \\\na \nc: # c\n\t# n\n\trm -f x\n\t>a\nelse"))) ∷  -- more-535
    (codes "ifdef A\nX = $(a\tb)\nelse\nF = ;\\\n\\\n-g\\\ng#\nendif\nc:: a\n\t# n\n\tifdef Q\noverride= = \n", ChangeValue (One None) (codes "F") (edits.Remove (codes "g")), Accepted 1 1 (span 35 38 [] ∷ []) (Becomes (codes "ifdef A\nX = $(a\tb)\nelse\nF = ;\\\n\\\n-g#\nendif\nc:: a\n\t# n\n\tifdef Q\noverride= = \n"))) ∷  -- more-540
    (codes "c c\\\\\n:: a | b\r\ty\r\n\t\ttrue\n\ta\\\\\noverride =| \\\n    $\\\n\nF =\n", ChangeValue (One None) (codes "F") (edits.Remove (codes "a")), NotMade 1 Absent) ∷  -- more-546
    (codes "export a.b = -O2\n.RECIPEPREFIX = \nc:\n\tt\n\t\ttrue\n\t\n", ChangeValue (One None) (codes "a.b") (edits.Remove (codes "-O2")), Accepted 1 1 (span 13 16 [] ∷ []) (Becomes (codes "export a.b = \n.RECIPEPREFIX = \nc:\n\tt\n\t\ttrue\n\t\n"))) ∷  -- more-551
    (codes "a.b = -g\\\n\\\nb# a \\\\\na.b =x=1\\\n -g", ChangeValue (One (Some 1)) (codes "a.b") (edits.Remove (codes "-g")), Accepted 1 1 (span 6 12 [] ∷ []) (Becomes (codes "a.b = b# a \\\\\na.b =x=1\\\n -g"))) ∷  -- more-555
    (codes "F = $x -g \nd&: a\n# n\n\ttrue\n", ChangeValue (One None) (codes "F") (edits.Remove (codes "$x")), Accepted 1 1 (span 4 7 [] ∷ []) (Becomes (codes "F = -g \nd&: a\n# n\n\ttrue\n"))) ∷  -- more-556
    (codes "F = b a:b a:b \nc&: ; true\n\tt\noverride = | \\\n-O2 \\\n$(A -g)#\n", ChangeValue (One None) (codes "override") (edits.Remove (codes "|")), Accepted 1 1 (span 40 44 [] ∷ []) (Becomes (codes "F = b a:b a:b \nc&: ; true\n\tt\noverride = -O2 \\\n$(A -g)#\n"))) ∷  -- more-559
    (codes "F::= -O2\t$(t \\\n -g)\\\n $(a\tb)\nX\\\n?=a$  x=1\n", ChangeValue (One (Some 1)) (codes "X") (edits.Remove (codes "a$ ")), NotMade 1 (BadArgument field.Word)) ∷  -- more-562
    (codes ".RECIPEPREFIX = >\n\\\ndefine .RECIPEPREFIX\nF= a\\\n\\ #-g\nifdef A\nF := b\\\n\\\n=  \\#\t; # a \\\\\nelse\noverride= \\\n \\\n a\\\\ \nendif\nexport F = \r", ChangeValue (One None) (codes "F") (edits.Remove (codes "a:b")), NotMade 1 RecipePrefix) ∷  -- more-573
    (codes " \\\n\nX= a$  a:b\\\n\t$(t \\\n -g)\n>q ?=${c} \\ \t$# \\\n\nX = a:b\\\n\\\nF\\\n=\t#-g\n", ChangeValue (One None) (codes "X$ ") (edits.Remove (codes "$ b")), NotMade 1 (BadArgument field.Name)) ∷  -- more-575
    (codes "c::\n\t# n\n\tt\n\ta\\\n b\nF ?= -g =", ChangeValue (One None) (codes "F") (edits.Remove (codes "-g")), Accepted 1 1 (span 24 27 [] ∷ []) (Becomes (codes "c::\n\t# n\n\tt\n\ta\\\n b\nF ?= ="))) ∷  -- more-576
    (codes "c: a | b\n>true\n>say \"q\"\na.b = \\\nx$(a  b)\noverride F\\\n+= b \\\r\n -g\\\nb =\n>q  != \t # x ; y : z = 1", ChangeValue (One None) (codes "F") (edits.Remove (codes "=")), Accepted 1 1 (span 67 69 [] ∷ []) (Becomes (codes "c: a | b\n>true\n>say \"q\"\na.b = \\\nx$(a  b)\noverride F\\\n+= b \\\r\n -g\\\nb\n>q  != \t # x ; y : z = 1"))) ∷  -- more-580
    (codes "F =\\\n\\\n-g -g  =\nifdef A\nF +=\\\n\t \nendif\nF\\\n::= $(s (b) a)\t; -g $x \\\r\n a\\ # c", ChangeValue (One None) (codes "F") (edits.Remove (codes "a\0")), NotMade 1 (BadArgument field.Word)) ∷  -- more-581
    (codes "endef\nexport F\\\n!=b $\\ $\\\n b# \\\n d\nF:= \\\n     \\", ChangeValue (One (Some 2)) (codes "F") (edits.Remove (codes "\\")), NotMade 1 (BadArgument field.Word)) ∷  -- more-591
    (codes "F = b\t= \\\r\n $(u \\\n \\\n b a\nF!= a# a \\\\\n", ChangeValue (One (Some 1)) (codes "F") (edits.Remove (codes "b")), NotMade 1 OpenValue) ∷  -- more-593
    (codes "override:=a:b = -g \r\n", ChangeValue (One None) (codes "override") (edits.Remove (codes "a:b")), Accepted 1 1 (span 10 14 [] ∷ []) (Becomes (codes "override:== -g \r\n"))) ∷  -- more-598
    (codes "F= $(s (b) a)\n", ChangeValue (One None) (codes "F") (edits.Remove (codes "$(s (b) a)")), Accepted 1 1 (span 3 13 [] ∷ []) (Becomes (codes "F= \n"))) ∷  -- more-604
    (codes "export F\\\r\n+= a -O2\\\n$ #\nF = x=1\\\n\tb#\n\nF =\nifdef A\nX= $(u b\nelse\na.b != b -O2 $x# \\\n d\nendif\r", ChangeValue (One (Some 2)) (codes "F") (edits.Remove (codes "x=1")), Accepted 1 1 (span 29 35 [] ∷ []) (Becomes (codes "export F\\\r\n+= a -O2\\\n$ #\nF = b#\n\nF =\nifdef A\nX= $(u b\nelse\na.b != b -O2 $x# \\\n d\nendif\r"))) ∷  -- more-610
    (codes "c: # c\n>ifdef Q\n># n\n> a\n>ifdef Q\noverride X ::= a\\\n\\\n|#-g\n%.o: a\n\ta\n\ta\\\n b\n", ChangeValue (One None) (codes "X") (edits.Remove (codes "|")), Accepted 1 1 (span 50 55 [] ∷ []) (Becomes (codes "c: # c\n>ifdef Q\n># n\n> a\n>ifdef Q\noverride X ::= a#-g\n%.o: a\n\ta\n\ta\\\n b\n"))) ∷  -- more-629
    (codes ".RECIPEPREFIX = >\n \nexport .RECIPEPREFIX  ::= $$ b \\\r\n \r", ChangeValue (One None) (codes ".RECIPEPREFIX") (edits.Remove (codes ">")), NotMade 1 Reserved) ∷  -- more-641
    (codes "X\\\n+=a \\\n    a$\\\nifdef A\nexport F ::=$(a\tb)\\\n\\\n-g# \\\n d\nendif\n.RECIPEPREFIX = $x\nifdef A\nF = -O2 a\t\nelse\noverride::= -g # \\\n d\nendif\nifdef A\nX = a \\\n    ;\nendif", ChangeValue (One (Some 1)) (codes "X") (edits.Remove (codes "A")), NotMade 1 RecipePrefix) ∷  -- more-653
    (codes "override F\\\n?= -O2\na.b!= -g -g\\\n a\nF\\\n?= $\\ -O2 $## a \\\\\nifdef A\noverride F\\\n?= a\t\nelse\noverride a.b ::= x$(a  b)\nendif\n", ChangeValue (One None) (codes "a.b") (edits.Remove (codes "-g")), NotMade 1 (Ambiguous 2)) ∷  -- more-675
    (codes "d&: ; true\nF?==\tÃ© \\\n \\\n -g\n", ChangeValue (One None) (codes ".RECIPEPREFIX") (edits.Remove (codes "b")), NotMade 1 Reserved) ∷  -- more-731
    (codes "override +=b# \\\r\n d\r\nifdef A\r\nexport F =\t$  \\\r\n b# \\\r\n d\r\nelse\r\nX =-g\ta\\\r\n b \r\nendif\r\nF ?= x=1 -g \\\r\n    -g \\\r\n -g\r\n", ChangeValue (One None) (codes "F") (edits.Remove (codes "-g")), NotMade 1 (Ambiguous 2)) ∷  -- more-758
    (codes "X::= a -O2  | a# \\\n d\nexport a.b?= = $\\ =\nd: ;\n\tx \\ y\n\t\nx.o:: ;\nX ::= \n", ChangeValue (One (Some 1)) (codes "a.b") (edits.Remove (codes "=")), NotMade 1 OpenValue) ∷  -- more-761
    (codes "\\\n\t\nX = -O2 -g a  \noverride F?= a$\\ a# \\\n d\noverride:=\\# \\\n \\\n $(s\\)1", ChangeValue (One (Some 1)) (codes "F") (edits.Remove (codes "a")), NotMade 1 OpenValue) ∷  -- more-768
    (codes "F = a\\  b | a \\\r\n \nX ::= =# a \\\\\nF\\\n=${v a -g\n", ChangeValue (One (Some 1)) (codes "F") (edits.Remove (codes "b")), NotMade 1 OpenValue) ∷  -- more-781
    (codes "F ::= x=1 \\\r\n-g\r\nifdef A\r\nexport F= \\\r\na:b -g\t$\\ \r\nendif\r\nifdef A\r\nF ::= a:b #-g\r\nelse\r\nX = \r\nendif\r\nd: ; true\r\n\tifdef Q\r\n\tb\r\n\ta\r\nc: ;\r\n\t>a\r\n\ta # b\r\n# n\r\n # n", ChangeValue (One None) (codes "F") (edits.Remove (codes "-g")), NotMade 1 (Ambiguous 3)) ∷  -- more-798
    (codes "X\\\r\n+=a \\\r\n a\\\r\n${c}  a# a \\\\\r\nexport X := -g ${v a  =# a \\\\\r\nc: ;\r\n>\r\noverride X = = x=1# \\\r\n d", ChangeValue (One None) (codes "X") (edits.Remove (codes "a")), NotMade 1 (Ambiguous 3)) ∷  -- more-836
    (codes ".RECIPEPREFIX = >\nX= a$  a \\\r\n b", ChangeValue (One None) (codes "X") (edits.Remove (codes "a")), NotMade 1 OpenValue) ∷  -- more-863
    (codes "%.o: a\r\n># n\r\n>>a\r\nF = -g $\\ = # \\\r\n d\r\n \r\n", ChangeValue (One None) (codes "F") (edits.Remove (codes "=")), NotMade 1 OpenValue) ∷  -- more-868
    (codes ".RECIPEPREFIX = >\nF\\\n= -g \\\n| ;\\\na\\\n| \noverride a.b = ${c} $(A -g)\\\n\\\n$ $(s (b) a) $(u\nX:= \n", ChangeValue (One None) (codes "a.b") (edits.Remove (codes "$(A -g)")), NotMade 1 OpenValue) ∷  -- more-882
    (codes "a.b = a\\$ $(u \\\n \\\n a\\ #\nF= x$(a  b) b $(s (b) a)\\\nx=1\nifdef A\na.b\\\n= -g\\\n -O2\t-g\t| \\# \nelse\noverride F = a\\$ \nendif\n", ChangeValue (One None) (codes "F") (edits.Remove (codes "x=1")), NotMade 1 (Ambiguous 2)) ∷  -- more-905
    (codes ".RECIPEPREFIX ?= >\n\\\ndefine :::=$(p #) \nc&: a | b\n", ChangeValue (One None) (codes "define") (edits.Remove (codes "$(p #)")), NotMade 1 RecipePrefix) ∷  -- more-1013
    (codes "F ?=\\\r\n\t-g\t= b#-gdefine\r\nifdef A\r\nF =b b \\\r\n \\\r\n -O2 x=1 $(t \\\r\n -g)#-g\r\nelse\r\nF = = #\r\nendif!\r\n ", ChangeValue (One None) (codes "F") (edits.Remove (codes "-O2")), NotMade 1 (Ambiguous 3)) ∷  -- more-1054
    (codes ".RECIPEPREFIX = >\nF = a\tx$(a  b)#-g\nF\\\n=\tx=1 b -g\nd: ; true\n>a\\\n b\n>a\\\\\n>\ttrue\nc: ; true\n>\n>true \\\r\n\ttrue\n# \\\n n\n>\n", ChangeValue (One None) (codes "F") (edits.Remove (codes "b")), NotMade 1 (Ambiguous 2)) ∷  -- more-1071
    (codes "ifdef A\nexport F := $$\t-O2 \nelse\nF += ${c} \\\n \\\n |  =\nendif\nc&: a | b\n\ta\n\ta # b\noverride F != $(a\tb) $(a\tb) $  \\\r\n \nF := -g ;\nx.o x.o:: # c\n\tsay \"q\"\nF = a a:b b\\\n\\\n-g  $\\\nifeq (a,b)", ChangeValue (One None) (codes "F") (edits.Remove (codes "-O2")), NotMade 1 (Ambiguous 5)) ∷  -- more-1134
    (codes "F\\\n?= a\nX= -O2\\\n $\\\n # \\\n d\noverride = a:b \\\r\n x=1  = \n", ChangeValue (One None) (codes ".RECIPEPREFIX") (edits.Remove (codes "b")), NotMade 1 Reserved) ∷  -- more-1139
    (codes "ifdef A\nF\\\n= b -g \\\n;#\nendif\nF = -g  # a \\\\\nc: ;\n>say \"q\"\nexport override = ; \\\n    a:b \\\n    b\\\n", ChangeValue (One None) (codes "F") (edits.Remove (codes ";")), NotMade 1 (Ambiguous 2)) ∷  -- more-1147
    (codes "F =\\\n -g ${c} \nF\\\n=  \n", ChangeValue (One None) (codes "F") (edits.Remove (codes "${c}")), NotMade 1 (Ambiguous 2)) ∷  -- more-1173
    []

answers_8 : map (λ row. account row.0 row.1) rows_8 ≡ map (λ row. row.2) rows_8
answers_8 = refl

abbrev rows_9 : List (List ℕ × Edit × Account)
rows_9 =
    (codes " :: Y\\\n\t\\\r\n:=\\\\ \nF = Ã©\nF ?= a$\\#\n", ChangeValue (One None) (codes "F") (edits.Remove (codes "Ã©")), NotMade 1 (Ambiguous 2)) ∷  -- more-1183
    (codes "ifdef A\r\nX = $(s (b) a)\t\r\nendif\r\nX!=-O2 a #-g\\", ChangeValue (One None) (codes "X") (edits.Remove (codes "a")), NotMade 1 (Ambiguous 2)) ∷  -- more-1186
    (codes "F = = a -g \\\n\\ b # \\\n d\nF\\\n+=\n", ChangeValue (One None) (codes "F") (edits.Remove (codes "a")), NotMade 1 (Ambiguous 2)) ∷  -- more-1245
    (codes "X = $# $(s (b) a)\nF := |# \\\n d\nX=\ta  b# c\na.b= a \\\n-g\ninclude: ;\nifeq (a,b)\n>>a\nF= #\n", ChangeValue (One None) (codes "F") (edits.Remove (codes "|")), NotMade 1 (Ambiguous 2)) ∷  -- more-1249
    (codes "F ?= $(s (b) a) ${v a \r\nF\\\n+= -g \\\n    a\noverride X\\\n::= -g = \\ b\n", ChangeValue (One (Some 1)) (codes "F") (edits.Remove (codes "$(s (b) a)")), NotMade 1 OpenValue) ∷  -- more-1265
    (codes "a.b = -g\\\n\ta\\\\#\nF = =# \\\n d\nF =$(w \\\n a)\nF\\\n= -g a \n", ChangeValue (One None) (codes "F") (edits.Remove (codes "-g")), NotMade 1 (Ambiguous 3)) ∷  -- more-1267
    (codes "c: a\nF ?= -g#-g\nF\\\n:= -O2 ${v a b #\nc: ; true\n\tsay \"q\"\n\tx \\ y\nelse\n\ta\\\n>b\n", ChangeValue (One None) (codes "F") (edits.Remove (codes "$(t -g)")), NotMade 1 (Ambiguous 2)) ∷  -- more-1274
    (codes "F= \nexport F ::= x=1 ; -O2 -g# a \\\\\r\n%.o:\r\n\ta # b\r\nifdef A\r\nF := \r\nendif\r\nd: # c\r\n\ttrue\r\nendif\r\n \r\n\tb", ChangeValue (One None) (codes "F") (edits.Remove (codes "x=1")), NotMade 1 (Ambiguous 3)) ∷  -- more-1279
    (codes "X +=\\\\ a\\\\ = b\\\\\n\nF :=-g# a \\\\\r\nF?= \\\r\n    -g", ChangeValue (One None) (codes "X") (edits.Remove (codes "=")), NotMade 1 OpenValue) ∷  -- more-1285
    []

answers_9 : map (λ row. account row.0 row.1) rows_9 ≡ map (λ row. row.2) rows_9
answers_9 = refl
