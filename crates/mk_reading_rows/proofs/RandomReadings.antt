-- Texts and their readings. Made by `tests/definitions/reading_rows.py tests/cases/readings/random.tsv`.
use Rattle.std.proofs.Common.{◌≡◌, refl, [], ◌∷◌, Some, None}
use Rattle.std.specs.Prelude.{codes}
use Rattle.mk_class.specs.declared.assignment.Flavor.TheVariants.{Recursive, Simple, PosixSimple, Immediate, Conditional, Append, Shell}
use Rattle.mk_class.specs.declared.assignment.Modifier.TheVariants.{Override, Export, Private}
use Rattle.mk_class.specs.declared.rule.Separator.TheVariants.{SingleColon, DoubleColon, GroupedColon, GroupedDoubleColon}
use Rattle.mk_tree.specs.Readings.{reading}
use Rattle.mk_tree.specs.Items.{Sets}
use Rattle.mk_tree.specs.Items.Item.{Assign, TargetAssign, Header, Recipe, Endef, Body, Opaque, DefineHead, If, Else, Endif, Directive, Rough}

row_random_001 : reading (codes "$(f {): : \t \n\ta \\\n\tb\n>q\t:= \t%.o\\\\$(s\\) \n #\\\\\n$(a b): : \\\r\n $(q:;=|):| \na: \n\ta\\\ntt: u") ≡ Rough (codes "$(f {): : \t ") ∷ Recipe (codes "a \\\n\tb") ∷ Assign (Sets [] (codes ">q") Simple (codes "%.o\\\\$(s\\)")) ∷ Rough (codes "$(a b): : \\\r\n $(q:;=|):| ") ∷ Header ((codes "a") ∷ []) SingleColon [] [] [] None ∷ Recipe (codes "a\\\ntt: u") ∷ []
row_random_001 = refl

row_random_002 : reading (codes "\ta\t\\\r\n>b") ≡ Opaque (codes "\ta\t\\\r\n>b") ∷ []
row_random_002 = refl

row_random_003 : reading (codes "}} \\\\\n(&{\t+ \n\ta \\\n\tb\na::\\\n\\\n$(f {) : $x $(a b) \t$(s\\)#\0\n\t\n$(q:;=|) ::: a&b %.o | ${c}#\noverride::=$(f {)# c\n\t\nt:  \na&b : $$ # ") ≡ Opaque (codes "}} \\\\") ∷ Opaque (codes "(&{\t+ ") ∷ Opaque (codes "\ta \\\n\tb") ∷ Opaque (codes "a::\\\n\\\n$(f {) : $x $(a b) \t$(s\\)#\0") ∷ Opaque (codes "\t") ∷ Rough (codes "$(q:;=|) ::: a&b %.o | ${c}#") ∷ Assign (Sets [] (codes "override") PosixSimple (codes "$(f {)")) ∷ Header ((codes "t") ∷ []) SingleColon [] [] [] None ∷ Header ((codes "a&b") ∷ []) SingleColon [] ((codes "$$") ∷ []) [] None ∷ []
row_random_003 = refl

row_random_004 : reading (codes "t1 != $x: \t\\\\ \n$(s\\) $$:override -x_9\t:::=x  yfoo \n=") ≡ Assign (Sets [] (codes "t1") Shell (codes "$x: \t\\\\")) ∷ TargetAssign ((codes "$(s\\)") ∷ (codes "$$") ∷ []) SingleColon (Sets (Override ∷ []) (codes "-x_9") Immediate (codes "x  yfoo")) ∷ Opaque (codes "=") ∷ []
row_random_004 = refl

row_random_005 : reading (codes " \\\n\tt1\\\r\n?= $(s\\)$(a b)  # x ; y : z = 1\r\nen>def?=  #\r\n+ :=\\\\\\\r\n\ta\\\\\r\nendef#c\r\ntdefine Q\r\n-include2 a&b : : | a:b ${c} \r\n>tu\r\n") ≡ Assign (Sets [] (codes "t1") Conditional (codes "$(s\\)$(a b)")) ∷ Assign (Sets [] (codes "en>def") Conditional []) ∷ Opaque (codes "+ :=\\\\\\\r\n\ta\\\\") ∷ Opaque (codes "endef#c") ∷ Opaque (codes "tdefine Q") ∷ Rough (codes "-include2 a&b : : | a:b ${c} ") ∷ Opaque (codes ">tu") ∷ []
row_random_005 = refl

row_random_006 : reading (codes "override export .RECIPEPREFIX\t!=b\\\r\nb 1 \t\n\t\\\n\n \\\n&: a\\= +=\\\n\\\n #\0\n>${c} $(f {) &:: ${g(}\t# x ; y : z = 1\na: $(q:;=|)  %.c\n$(q:;=|) $$ : $$ .PHONY \n\ta&b :\\\r\n$(f {) \t$$\\\n\t\n${g(}&::\tfoo\t#c \\\n d") ≡ Assign (Sets (Override ∷ Export ∷ []) (codes ".RECIPEPREFIX") Shell (codes "b b 1")) ∷ Opaque (codes " \\\n&: a\\= +=\\\n\\\n #\0") ∷ Header ((codes ">${c}") ∷ (codes "$(f {)") ∷ []) GroupedDoubleColon [] ((codes "${g(}") ∷ []) [] None ∷ Header ((codes "a") ∷ []) SingleColon [] ((codes "$(q:;=|)") ∷ (codes "%.c") ∷ []) [] None ∷ Header ((codes "$(q:;=|)") ∷ (codes "$$") ∷ []) SingleColon [] ((codes "$$") ∷ (codes ".PHONY") ∷ []) [] None ∷ Recipe (codes "a&b :\\\r\n$(f {) \t$$\\\n\t") ∷ Header ((codes "${g(}") ∷ []) GroupedDoubleColon [] ((codes "foo") ∷ []) [] None ∷ []
row_random_006 = refl

row_random_007 : reading (codes "$(s\\) ::\tx.o x.o| -include2 \r\na: $(q:;=|)\\\n\t\\\r\n${c}\n\tifdef Z\n # \r\r\n$(q:;=|): :$=: $(s\\)  ${g(}\\\n|   \r\n# c\r\n\n\r\n") ≡ Rough (codes "$(s\\) ::\tx.o x.o| -include2 ") ∷ Header ((codes "a") ∷ []) SingleColon [] ((codes "$(q:;=|)") ∷ (codes "${c}") ∷ []) [] None ∷ Recipe (codes "ifdef Z") ∷ Rough (codes "$(q:;=|): :$=: $(s\\)  ${g(}\\\n|   ") ∷ []
row_random_007 = refl

row_random_008 : reading (codes "$(a b) \\\n \\\n a&b:.PHONY foo \n\tZ = 1\r\n(\t\\\n\r\n.RECIPEPREFIX =\\\n>\r\nx.o y: \n\n #\\\\\\\n\n\tendef\r\nifdef!== \\\n#c \\\n d\r\n>A :=; \r\n\t$(\r\ntendef\r\nifeq (a,$(b\r\n") ≡ Header ((codes "$(a b)") ∷ (codes "a&b") ∷ []) SingleColon [] ((codes ".PHONY") ∷ (codes "foo") ∷ []) [] None ∷ Recipe (codes "Z = 1") ∷ Opaque (codes "(\t\\\n") ∷ Assign (Sets [] (codes ".RECIPEPREFIX") Recursive (codes ">")) ∷ Header ((codes "x.o") ∷ (codes "y") ∷ []) SingleColon [] [] [] None ∷ Opaque (codes "\tendef") ∷ Assign (Sets [] (codes "ifdef") Shell (codes "=")) ∷ Assign (Sets [] (codes ">A") Simple (codes ";")) ∷ Opaque (codes "\t$(") ∷ Opaque (codes "tendef") ∷ If (codes "ifeq (a,$(b") ∷ []
row_random_008 = refl

row_random_009 : reading (codes "\\\n\\\n") ≡ Opaque (codes "\\\n\\") ∷ []
row_random_009 = refl

row_random_010 : reading (codes "\ta\\\r\n>b\\\\\nx.o y: \n\t \\\n\tb\n>edef\n\t\n\t#c\n\n") ≡ Opaque (codes "\ta\\\r\n>b\\\\") ∷ Header ((codes "x.o") ∷ (codes "y") ∷ []) SingleColon [] [] [] None ∷ Recipe (codes " \\\n\tb") ∷ Opaque (codes ">edef") ∷ Opaque (codes "\t") ∷ Opaque (codes "\t#c") ∷ []
row_random_010 = refl

row_random_011 : reading (codes "a: .PHONY\n \\\n\nifeq (a,$(b\n\tt: u\r\n> \r\n>x\r\n\n\\\\\n{b; \0\t\\\n\\\n>?\r\nA != \\\n \\\n a $x\r\nendif\r\n\\\r\n&:  X :::=%.c \r\na?\r\n$!define |\r\n>Z = 1\r\n") ≡ Header ((codes "a") ∷ []) SingleColon [] ((codes ".PHONY") ∷ []) [] None ∷ If (codes "ifeq (a,$(b") ∷ Recipe (codes "t: u") ∷ Opaque (codes "> ") ∷ Opaque (codes ">x") ∷ Opaque (codes "\\\\") ∷ Opaque (codes "{b; \0\t\\\n\\\n>?") ∷ Assign (Sets [] (codes "A") Shell (codes "a $x")) ∷ Endif (codes "endif") ∷ Rough (codes "\\\r\n&:  X :::=%.c ") ∷ Opaque (codes "a?") ∷ Opaque (codes "$!define |") ∷ Assign (Sets [] (codes ">Z") Recursive (codes "1")) ∷ []
row_random_011 = refl

row_random_012 : reading (codes ".RECIPEPREFIX = X\n.a\\\\\noverride\\\n\\\ndefine:::=  \t# \r\nexport\\\nA?= \\\r\n $(p #)#c \\\n d\nx.o y: -include2\n \\\n\n$(q:;=|) :\tfoo \n$$ :\\\n-include2 b #\\\\\na.b::=\\\n\\\n$(f {) \n \\\n") ≡ Assign (Sets [] (codes ".RECIPEPREFIX") Recursive (codes "X")) ∷ Opaque (codes ".a\\\\") ∷ Assign (Sets (Override ∷ []) (codes "define") Immediate []) ∷ Assign (Sets (Export ∷ []) (codes "A") Conditional (codes "$(p #)")) ∷ Header ((codes "x.o") ∷ (codes "y") ∷ []) SingleColon [] ((codes "-include2") ∷ []) [] None ∷ Header ((codes "$(q:;=|)") ∷ []) SingleColon [] ((codes "foo") ∷ []) [] None ∷ Header ((codes "$$") ∷ []) SingleColon [] ((codes "-include2") ∷ (codes "b") ∷ []) [] None ∷ Assign (Sets [] (codes "a.b") PosixSimple (codes "$(f {)")) ∷ Opaque (codes " \\") ∷ []
row_random_012 = refl

row_random_013 : reading (codes "\tendef\nx.o x.o&:: \tx.o\tx.o $(f {)\n%.c &: .PHONY:\n\t#c\nb :a&b;%.o\n") ≡ Opaque (codes "\tendef") ∷ Header ((codes "x.o") ∷ (codes "x.o") ∷ []) GroupedDoubleColon [] ((codes "x.o") ∷ (codes "x.o") ∷ (codes "$(f {)") ∷ []) [] None ∷ Rough (codes "%.c &: .PHONY:") ∷ Recipe (codes "#c") ∷ Header ((codes "b") ∷ []) SingleColon [] ((codes "a&b") ∷ []) [] (Some (codes "%.o")) ∷ []
row_random_013 = refl

row_random_014 : reading (codes "-x_9\\\n\t?=\\\nt \n>&>q::=\r #\n \\\n\t$(f {)::: \t \ne\\ef = 1 \n \n#\nY \t?= \0") ≡ Assign (Sets [] (codes "-x_9") Conditional (codes "t")) ∷ Opaque (codes ">&>q::=\r #") ∷ Rough (codes " \\\n\t$(f {)::: \t ") ∷ Assign (Sets [] (codes "e\\ef") Recursive (codes "1")) ∷ Opaque (codes "Y \t?= \0") ∷ []
row_random_014 = refl

row_random_015 : reading (codes "$(q:;=|):: $$ \r\na:t ${c} $(p #) \nt1 :::=$(p #) \\\n  \\$x \0 # x ; y : z = 1\r\nifdef =  # \\\nfoo: \n.t: u\n# \\\n") ≡ Header ((codes "$(q:;=|)") ∷ []) DoubleColon [] ((codes "$$") ∷ []) [] None ∷ Header ((codes "a") ∷ []) SingleColon [] ((codes "t") ∷ (codes "${c}") ∷ (codes "$(p #)") ∷ []) [] None ∷ Opaque (codes "t1 :::=$(p #) \\\n  \\$x \0 # x ; y : z = 1") ∷ Assign (Sets [] (codes "ifdef") Recursive []) ∷ Header ((codes ".t") ∷ []) SingleColon [] ((codes "u") ∷ []) [] None ∷ []
row_random_015 = refl

row_random_016 : reading (codes "$x&:: b \t$(s\\)\ninclude a\n &: t1+= ${g(} \\\r\n \\$x \\\n \\\n # \\\nfoo &:: $x\t:\\\r\n$(s\\)\\\n\t#\n\\\n\t") ≡ Header ((codes "$x") ∷ []) GroupedDoubleColon [] ((codes "b") ∷ (codes "$(s\\)") ∷ []) [] None ∷ Directive (codes "include a") ∷ Rough (codes " &: t1+= ${g(} \\\r\n \\$x \\\n \\\n # \\\nfoo &:: $x\t:\\\r\n$(s\\)\\\n\t#") ∷ []
row_random_016 = refl

row_random_017 : reading [] ≡ []
row_random_017 = refl

row_random_018 : reading (codes "x.o y: %.o\tx.o\noverride != \\\n$(f {) $(q:;=|) \\\n  \nA ::=a\\:b \nload x\nx.o y: .PHONY\n\techo a # b\nendif # c\n>$(s\\): : x.o :$(p #)\\\n\t|\\\n# \r\nendef\\\n\n\t\\\n$(p #):${c} t \nvpath %.c a\n") ≡ Header ((codes "x.o") ∷ (codes "y") ∷ []) SingleColon [] ((codes "%.o") ∷ (codes "x.o") ∷ []) [] None ∷ Assign (Sets [] (codes "override") Shell (codes "$(f {) $(q:;=|)")) ∷ Assign (Sets [] (codes "A") PosixSimple (codes "a\\:b")) ∷ Directive (codes "load x") ∷ Header ((codes "x.o") ∷ (codes "y") ∷ []) SingleColon [] ((codes ".PHONY") ∷ []) [] None ∷ Recipe (codes "echo a # b") ∷ Opaque (codes "endif # c") ∷ Rough (codes ">$(s\\): : x.o :$(p #)\\\n\t|\\\n# ") ∷ Opaque (codes "endef\\\n") ∷ Opaque (codes "\t\\\n$(p #):${c} t ") ∷ Directive (codes "vpath %.c a") ∷ []
row_random_018 = refl

row_random_019 : reading (codes "foo: b\n\nifneq\n.\r\n$(p #): : \\\r\n .PHONY#\\\\\\\n\r\nfoo $(q:;=|) : $(f {) \\\n \\\n :$(q:;=|) $(a b) \n\\\n\t\n\n\toverride\\\n\\\nprivate X:=\\\n\t \n.RECIPEPREFIX::=t\r\n$x :: ${g(} \\\r\n |  # \\\nt\\\r\n: :${g(}\ta&b  $(q:;=|) \n") ≡ Header ((codes "foo") ∷ []) SingleColon [] ((codes "b") ∷ []) [] None ∷ If (codes "ifneq") ∷ Opaque (codes ".") ∷ Opaque (codes "$(p #): : \\\r\n .PHONY#\\\\\\\n") ∷ Header ((codes "foo") ∷ (codes "$(q:;=|)") ∷ []) SingleColon ((codes "$(f {)") ∷ []) ((codes "$(q:;=|)") ∷ (codes "$(a b)") ∷ []) [] None ∷ Recipe (codes "override\\\n\\\nprivate X:=\\\n\t ") ∷ Assign (Sets [] (codes ".RECIPEPREFIX") PosixSimple (codes "t")) ∷ Header ((codes "$x") ∷ []) DoubleColon [] ((codes "${g(}") ∷ []) [] None ∷ []
row_random_019 = refl

row_random_020 : reading (codes "de#fine F \\\n\n\t#\n>y\r\n# \\\nx.o y: .PHONY\n\tifdef Z\n\t#c\n") ≡ Opaque (codes "de#fine F \\\n") ∷ Opaque (codes "\t#") ∷ Opaque (codes ">y") ∷ Opaque (codes "\tifdef Z") ∷ Opaque (codes "\t#c") ∷ []
row_random_020 = refl

row_random_021 : reading (codes "t\\\n\n.PHONY  c: (p #) $(s\\) \\\n$(p #) \nex\noverride X\n> \nCC \\\n \\\n != \\# \\\r\n $\\\n \n\t-x_9 \\\r\n ?=x.o\n") ≡ Opaque (codes "t\\\n") ∷ Header ((codes ".PHONY") ∷ (codes "c") ∷ []) SingleColon [] ((codes "(p") ∷ []) [] None ∷ Opaque (codes "ex") ∷ Opaque (codes "override X") ∷ Opaque (codes "> ") ∷ Assign (Sets [] (codes "CC") Shell (codes "\\# $ ")) ∷ Assign (Sets [] (codes "-x_9") Conditional (codes "x.o")) ∷ []
row_random_021 = refl

row_random_022 : reading (codes "override != \\\r\n -include2\\$x #\\\\\\\n\r\nendef\\\n\r\n\n\r\n-x_9?= $$a\\:b\\\n\\\n%.c \t\r\nb: x.o ${c} %.c; $(w \\\n \t\\\n") ≡ Opaque (codes "override != \\\r\n -include2\\$x #\\\\\\\n") ∷ Opaque (codes "endef\\\n") ∷ Assign (Sets [] (codes "-x_9") Conditional (codes "$$a\\:b %.c")) ∷ Header ((codes "b") ∷ []) SingleColon [] ((codes "x.o") ∷ (codes "${c}") ∷ (codes "%.c") ∷ []) [] (Some (codes " $(w \\\n \t\\")) ∷ []
row_random_022 = refl

row_random_023 : reading (codes ".RECIPEPREFIX = e\n") ≡ Assign (Sets [] (codes ".RECIPEPREFIX") Recursive (codes "e")) ∷ []
row_random_023 = refl

row_random_024 : reading (codes ".RECIPEPREFIX = $$\r\n >q != \\\r\n $$\\\n\\\n$(s\\) ; \r\nendef\r\nx.o y: \nelse ifdef Q\r\nfoo: \r\nCC :::= \\\n\t\r\noverride define .RECIPEPREFIX\r\n$&: : \r\n\tZ = 1\r\n") ≡ Assign (Sets [] (codes ".RECIPEPREFIX") Recursive (codes "$$")) ∷ Assign (Sets [] (codes ">q") Shell (codes "$$ $(s\\) ;")) ∷ Opaque (codes "endef") ∷ Header ((codes "x.o") ∷ (codes "y") ∷ []) SingleColon [] [] [] None ∷ Opaque (codes "else ifdef Q") ∷ Header ((codes "foo") ∷ []) SingleColon [] [] [] None ∷ Assign (Sets [] (codes "CC") Immediate []) ∷ DefineHead (codes "override define .RECIPEPREFIX") ∷ Body (codes "$&: : ") ∷ Body (codes "\tZ = 1") ∷ []
row_random_024 = refl

row_random_025 : reading (codes "endef#c\r\n\ta\\\r\nendef\r\na.b ::= b t \\$x \t\r\nb $(p #):\tt {$(p #) foo \r\n\tdefine Q\r\n") ≡ Opaque (codes "endef#c") ∷ Opaque (codes "\ta\\\r\nendef") ∷ Assign (Sets [] (codes "a.b") PosixSimple (codes "b t \\$x")) ∷ Header ((codes "b") ∷ (codes "$(p #)") ∷ []) SingleColon [] ((codes "t") ∷ (codes "{$(p #)") ∷ (codes "foo") ∷ []) [] None ∷ Recipe (codes "define Q") ∷ []
row_random_025 = refl

row_random_026 : reading (codes "\t\n\\\n\t\ndefine ::=  \\\r\n # x ; y : z = 1\nfoo: \n\ty\r\nifndef X # c\n\telse\n>endef # c\n$(a b): :\ta&b \\\nfoo ") ≡ Assign (Sets [] (codes "define") PosixSimple []) ∷ Header ((codes "foo") ∷ []) SingleColon [] [] [] None ∷ Recipe (codes "y") ∷ If (codes "ifndef X # c") ∷ Recipe (codes "else") ∷ Opaque (codes ">endef # c") ∷ Rough (codes "$(a b): :\ta&b \\\nfoo ") ∷ []
row_random_026 = refl

row_random_027 : reading (codes "\t \r\n$x\\\r\nc&: t \\\r\n | ${g(}\\\n\t.PHONY \t\r\nifdef\\\nB\r\n # x ; y : z = 1\r\n.RECIPEPREFIX ::= Ã\r\n") ≡ Header ((codes "$x") ∷ (codes "c") ∷ []) GroupedColon [] ((codes "t") ∷ []) ((codes "${g(}") ∷ (codes ".PHONY") ∷ []) None ∷ If (codes "ifdef\\\nB") ∷ Assign (Sets [] (codes ".RECIPEPREFIX") PosixSimple (codes "Ã")) ∷ []
row_random_027 = refl

row_random_028 : reading (codes "\tdefine Q\r\nCC=  \n") ≡ DefineHead (codes "\tdefine Q") ∷ Body (codes "CC=  ") ∷ []
row_random_028 = refl

row_random_029 : reading (codes " !{:|::endef}\nexport .ECIPEPREFIX=$x\n") ≡ Rough (codes " !{:|::endef}") ∷ Assign (Sets (Export ∷ []) (codes ".ECIPEPREFIX") Recursive (codes "$x")) ∷ []
row_random_029 = refl

row_random_030 : reading (codes ".RECIPEPREFIX = b\nfoo: ${g(} \\\n  ${c}; \t$(q:;=|)${c}") ≡ Assign (Sets [] (codes ".RECIPEPREFIX") Recursive (codes "b")) ∷ Header ((codes "foo") ∷ []) SingleColon [] ((codes "${g(}") ∷ (codes "${c}") ∷ []) [] (Some (codes " \t$(q:;=|)${c}")) ∷ []
row_random_030 = refl

row_random_031 : reading (codes "a\t$(a b) &:export\\\r\noverride=\\\r\n \n$(p #) :::  |  ;\\\n\\\n\n\t$(\n\\\n\n$(p #) :  | b \\\n  foo\\\r\n\noverride := \\\n \\\n : # \\\n\tendef\n.RECIPEPREFIX=Ã\n${g(} &: $(a b) \tt\t${c} \\\r\n | c  b #\\\\\n") ≡ Rough (codes "a\t$(a b) &:export\\\r\noverride=\\\r\n ") ∷ Rough (codes "$(p #) :::  |  ;\\\n\\\n") ∷ Recipe (codes "$(") ∷ Header ((codes "$(p #)") ∷ []) SingleColon [] [] ((codes "b") ∷ (codes "foo") ∷ []) None ∷ Assign (Sets [] (codes "override") Simple (codes ":")) ∷ Assign (Sets [] (codes ".RECIPEPREFIX") Recursive (codes "Ã")) ∷ Header ((codes "${g(}") ∷ []) GroupedColon [] ((codes "$(a b)") ∷ (codes "t") ∷ (codes "${c}") ∷ []) ((codes "c") ∷ (codes "b") ∷ []) None ∷ []
row_random_031 = refl

row_random_032 : reading (codes "endif # c\n\\\nY! = \n#\n") ≡ Opaque (codes "endif # c") ∷ Assign (Sets [] (codes "Y!") Recursive []) ∷ []
row_random_032 = refl

row_random_033 : reading [] ≡ []
row_random_033 = refl

row_random_034 : reading (codes "foo : ${g(} x.o\n\tZ = 1\n # \r\nexport >q\\\r\n:=    \n}=>\n${c}: :  a |  \nX +=$\\\n  a\\:b\\\r\n\n export private define .RECIPEPREFIX\n>q:=\\\n\t%.c# c\n\\\noverride \\\n  CC\t=  \nY != ") ≡ Header ((codes "foo") ∷ []) SingleColon [] ((codes "${g(}") ∷ (codes "x.o") ∷ []) [] None ∷ Recipe (codes "Z = 1") ∷ Assign (Sets (Export ∷ []) (codes ">q") Simple []) ∷ Assign (Sets [] (codes "}") Recursive (codes ">")) ∷ Rough (codes "${c}: :  a |  ") ∷ Assign (Sets [] (codes "X") Append (codes "$ a\\:b")) ∷ DefineHead (codes " export private define .RECIPEPREFIX") ∷ Body (codes ">q:=\\\n\t%.c# c") ∷ Body (codes "\\\noverride \\\n  CC\t=  ") ∷ Body (codes "Y != ") ∷ []
row_random_034 = refl

row_random_035 : reading (codes " \n>endef\na x.o &::$(s\\): \naendef\n\\\n#\nt1 ::=$x$x\nb&::  \\\n  ") ≡ Opaque (codes ">endef") ∷ Rough (codes "a x.o &::$(s\\): ") ∷ Opaque (codes "aendef") ∷ Assign (Sets [] (codes "t1") PosixSimple (codes "$x$x")) ∷ Header ((codes "b") ∷ []) GroupedDoubleColon [] [] [] None ∷ []
row_random_035 = refl

row_random_036 : reading (codes "\t\\\n$(s\\) : $= |$(f {) \t%.o \\\n  \r\noverride\\\nY := \\\r\n\\\n$x: ${c} \tx.o \t# c\r\n\ta\\\\\r\nX:= $\\\r\n \r\n\\\n%.c:  \r\n") ≡ Opaque (codes "\t\\\n$(s\\) : $= |$(f {) \t%.o \\\n  ") ∷ Assign (Sets (Override ∷ []) (codes "Y") Simple (codes "$x: ${c} \tx.o")) ∷ Opaque (codes "\ta\\\\") ∷ Assign (Sets [] (codes "X") Simple (codes "$ ")) ∷ Header ((codes "%.c") ∷ []) SingleColon [] [] [] None ∷ []
row_random_036 = refl

row_random_037 : reading (codes "%.c: b  $$ \n\tx\n-x_9 ?= \\\r\n  \nb&: c \\\r\n .PHXNY \nt1 := \\\n  $(s\\)$$ \\$x \nx.o y: \nat: u\nexport define\n\\>\t$\n#\\$=(\t\\\n#=") ≡ Header ((codes "%.c") ∷ []) SingleColon [] ((codes "b") ∷ (codes "$$") ∷ []) [] None ∷ Recipe (codes "x") ∷ Assign (Sets [] (codes "-x_9") Conditional []) ∷ Header ((codes "b") ∷ []) GroupedColon [] ((codes "c") ∷ (codes ".PHXNY") ∷ []) [] None ∷ Assign (Sets [] (codes "t1") Simple (codes "$(s\\)$$ \\$x")) ∷ Header ((codes "x.o") ∷ (codes "y") ∷ []) SingleColon [] [] [] None ∷ Header ((codes "at") ∷ []) SingleColon [] ((codes "u") ∷ []) [] None ∷ DefineHead (codes "export define") ∷ Body (codes "\\>\t$") ∷ Body (codes "#\\$=(\t\\\n#=") ∷ []
row_random_037 = refl

row_random_038 : reading (codes "a: a %.o\nea\\\r\n>b\r\n>end+f\r\nX != c $$\r\naecho a # b\r\n>a\\\r\n>b\r\n-x_9\\\n\\\n= \\\n\r\n") ≡ Header ((codes "a") ∷ []) SingleColon [] ((codes "a") ∷ (codes "%.o") ∷ []) [] None ∷ Opaque (codes "ea\\\r\n>b") ∷ Opaque (codes ">end+f") ∷ Assign (Sets [] (codes "X") Shell (codes "c $$")) ∷ Opaque (codes "aecho a # b") ∷ Opaque (codes ">a\\\r\n>b") ∷ Assign (Sets [] (codes "-x_9") Recursive []) ∷ []
row_random_038 = refl

row_random_039 : reading (codes ">endef#c\r\n\t$(\nY= ${g(} \r\nifdef A") ≡ Opaque (codes ">endef#c") ∷ Opaque (codes "\t$(") ∷ Assign (Sets [] (codes "Y") Recursive (codes "${g(}")) ∷ If (codes "ifdef A") ∷ []
row_random_039 = refl

row_random_040 : reading (codes ".RECIPEPREFIX = x\r\n${c}::foo foo \r\na: t\ta\n else\r\n?\\|endefb\r\n$a b) \\\n$(q:;=|)&: c a&b  ${c}\\b\\\r\n\r\n") ≡ Assign (Sets [] (codes ".RECIPEPREFIX") Recursive (codes "x")) ∷ Header ((codes "${c}") ∷ []) DoubleColon [] ((codes "foo") ∷ (codes "foo") ∷ []) [] None ∷ Header ((codes "a") ∷ []) SingleColon [] ((codes "t") ∷ (codes "a") ∷ []) [] None ∷ Opaque (codes " else") ∷ Opaque (codes "?\\|endefb") ∷ Rough (codes "$a b) \\\n$(q:;=|)&: c a&b  ${c}\\b\\\r\n") ∷ []
row_random_040 = refl

row_random_041 : reading (codes "\\# ?\r= =define$\r\na &:x.o \t$$ |$(p #) #\\\\\r\nifeq (a,$(b\nifdef A\r\n  &:\\\n\\\nendef::= $x.o |\\\n\\\n\r\n") ≡ Opaque (codes "\\# ?\r= =define$") ∷ Rough (codes "a &:x.o \t$$ |$(p #) #\\\\") ∷ If (codes "ifeq (a,$(b") ∷ If (codes "ifdef A") ∷ Rough (codes "  &:\\\n\\\nendef::= $x.o |\\\n\\\n") ∷ []
row_random_041 = refl

row_random_042 : reading (codes "\t\\\nc : : ; \t= # \r\na.b +=: \\\n  $(a b) ${u# x ; y : z = 1\nifdef\\\n\t+= 1 \\\n \\\n t \n-x_9 ::=\\\na\\:b\t\na foo &:$(f {) : %.o  \n") ≡ Opaque (codes "\t\\\nc : : ; \t= # ") ∷ Assign (Sets [] (codes "a.b") Append (codes ": $(a b) ${u# x ; y : z = 1")) ∷ Assign (Sets [] (codes "ifdef") Append (codes "1 t")) ∷ Assign (Sets [] (codes "-x_9") PosixSimple (codes "a\\:b")) ∷ Rough (codes "a foo &:$(f {) : %.o  ") ∷ []
row_random_042 = refl

row_random_043 : reading (codes "override X$:?= 2 3$ \r\n: endef\\\n\t!= =\r\nx.o y: \r\na : privat t1:::=  \r\nY! ::=\\\nt${c} \r\nendif\r\n$(p #)  a&b :  |\t#\\\\\\\n\r\n") ≡ Assign (Sets (Override ∷ []) (codes "X$:") Conditional (codes "2 3$ ")) ∷ TargetAssign [] SingleColon (Sets [] (codes "endef") Shell (codes "=")) ∷ Header ((codes "x.o") ∷ (codes "y") ∷ []) SingleColon [] [] [] None ∷ Rough (codes "a : privat t1:::=  ") ∷ Assign (Sets [] (codes "Y!") PosixSimple (codes "t${c}")) ∷ Opaque (codes "endif") ∷ Opaque (codes "$(p #)  a&b :  |\t#\\\\\\\n") ∷ []
row_random_043 = refl

row_random_044 : reading (codes ".\r\n") ≡ Opaque (codes ".") ∷ []
row_random_044 = refl

row_random_045 : reading (codes "$(f {) &:: $(s\\) \\\n \\\n ${g(} $(s\\) ;  # x ; y : z = 1\r\ntt: u\r\na&b:::  .PHONY \r\nelse\n$$: : foo \r\nelse ifdef Q") ≡ Header ((codes "$(f {)") ∷ []) GroupedDoubleColon [] ((codes "$(s\\)") ∷ (codes "${g(}") ∷ (codes "$(s\\)") ∷ []) [] (Some (codes "  # x ; y : z = 1")) ∷ Header ((codes "tt") ∷ []) SingleColon [] ((codes "u") ∷ []) [] None ∷ Rough (codes "a&b:::  .PHONY ") ∷ Opaque (codes "else") ∷ Rough (codes "$$: : foo ") ∷ Opaque (codes "else ifdef Q") ∷ []
row_random_045 = refl

row_random_046 : reading (codes "else\r\n>CC ?=\\\n\r\n\t#c\r\nt1 \\\n \\\n != \\\r\n  \n") ≡ Opaque (codes "else") ∷ Assign (Sets [] (codes ">CC") Conditional []) ∷ Assign (Sets [] (codes "t1") Shell []) ∷ []
row_random_046 = refl

row_random_047 : reading (codes "override override\\\r\n:::= \r\na: \n\r\n\r\nexport Y \t::=\\$x \r\n.echo a # b\n: \t\\\nendef|\rb\\\r\na&b c &:  #\0\n #\0\n>a\\\n>define Q\r\n") ≡ Assign (Sets (Override ∷ []) (codes "override") Immediate []) ∷ Header ((codes "a") ∷ []) SingleColon [] [] [] None ∷ Assign (Sets (Export ∷ []) (codes "Y") PosixSimple (codes "\\$x")) ∷ Opaque (codes ".echo a # b") ∷ Opaque (codes ": \t\\\nendef|\rb\\\r\na&b c &:  #\0") ∷ Opaque (codes ">a\\\n>define Q") ∷ []
row_random_047 = refl

row_random_048 : reading (codes "$(p #)\\\n\t:\t$x a $(s\\) |  \n\tx\n\tendif\n\r\t\\\n>(\n\t\\\nendif\nendef x\nfoo: $(f {)\nifdef\\\nB\nifneq\nendef#c\n") ≡ Header ((codes "$(p #)") ∷ []) SingleColon [] ((codes "$x") ∷ (codes "a") ∷ (codes "$(s\\)") ∷ []) [] None ∷ Recipe (codes "x") ∷ Recipe (codes "endif") ∷ Opaque (codes "\r\t\\\n>(") ∷ Opaque (codes "\t\\\nendif") ∷ Opaque (codes "endef x") ∷ Header ((codes "foo") ∷ []) SingleColon [] ((codes "$(f {)") ∷ []) [] None ∷ If (codes "ifdef\\\nB") ∷ If (codes "ifneq") ∷ Opaque (codes "endef#c") ∷ []
row_random_048 = refl

row_random_049 : reading (codes "export override =\n$(p #)::\\\r\nY!= a\\:b #\0\n") ≡ Assign (Sets (Export ∷ []) (codes "override") Recursive []) ∷ Opaque (codes "$(p #)::\\\r\nY!= a\\:b #\0") ∷ []
row_random_049 = refl

row_random_050 : reading (codes ".RECIPEPREFIX = a\noverride\texport \ta.b =  \n.RECIPEPREFIX::= \r\n\t\\\nendef\nfoo: $(p #) $(p #) \r\n") ≡ Assign (Sets [] (codes ".RECIPEPREFIX") Recursive (codes "a")) ∷ Assign (Sets (Override ∷ Export ∷ []) (codes "a.b") Recursive []) ∷ Assign (Sets [] (codes ".RECIPEPREFIX") PosixSimple []) ∷ Opaque (codes "\t\\\nendef") ∷ Header ((codes "foo") ∷ []) SingleColon [] ((codes "$(p #)") ∷ (codes "$(p #)") ∷ []) [] None ∷ []
row_random_050 = refl

row_random_051 : reading (codes "endif\nfoo: \n\t\n\ta \\\n\tb\n\techo a # b\n\tifdef Z\n") ≡ Opaque (codes "endif") ∷ Header ((codes "foo") ∷ []) SingleColon [] [] [] None ∷ Recipe [] ∷ Recipe (codes "a \\\n\tb") ∷ Recipe (codes "echo a # b") ∷ Recipe (codes "ifdef Z") ∷ []
row_random_051 = refl

row_random_052 : reading (codes "CC +=a#\r\n$\\a b): \\\r\n  # \\\r\n") ≡ Assign (Sets [] (codes "CC") Append (codes "a")) ∷ Rough (codes "$\\a b): \\\r\n  # \\") ∷ []
row_random_052 = refl

row_random_053 : reading (codes ".endef\nx.o y: \n\n>#c\n\tendef\n%.o : \\\n \\\n ${c} : \tb $$ \n \\\n\toverride:=  \\\n\nendef # c\n>y\r\n$(p #)\t-include2: foo \n") ≡ Opaque (codes ".endef") ∷ Header ((codes "x.o") ∷ (codes "y") ∷ []) SingleColon [] [] [] None ∷ Opaque (codes ">#c") ∷ Opaque (codes "\tendef") ∷ Header ((codes "%.o") ∷ []) SingleColon ((codes "${c}") ∷ []) ((codes "b") ∷ (codes "$$") ∷ []) [] None ∷ Assign (Sets [] (codes "override") Simple []) ∷ Opaque (codes "endef # c") ∷ Opaque (codes ">y") ∷ Header ((codes "$(p #)") ∷ (codes "-include2") ∷ []) SingleColon [] ((codes "foo") ∷ []) [] None ∷ []
row_random_053 = refl

row_random_054 : reading (codes " #c \\\n d\n #\\\\\\\n\na.b += %.c \\\n$# c\n$$: t\t${c} $ ; \n\t\\\n$x \tc: : \t${c}:  a&b  $(q:;=|)  $x #\0\n$(s\\):\\\r\n%.c .PHONY\\\n\\\n$$ |\\\n\t\\\r\n; a $(p #) \noverride define F \\\n\n$(q:;=|) t&::b $(p #)  |t # ") ≡ Assign (Sets [] (codes "a.b") Append (codes "%.c $# c")) ∷ Rough (codes "$$: t\t${c} $ ; ") ∷ Recipe (codes "\\\n$x \tc: : \t${c}:  a&b  $(q:;=|)  $x #\0") ∷ Header ((codes "$(s\\)") ∷ []) SingleColon [] ((codes "%.c") ∷ (codes ".PHONY") ∷ (codes "$$") ∷ []) [] (Some (codes " a $(p #) ")) ∷ DefineHead (codes "override define F \\\n") ∷ Body (codes "$(q:;=|) t&::b $(p #)  |t # ") ∷ []
row_random_054 = refl

row_random_055 : reading (codes "foo :\\\n\t| $(f {)# x ; y : z = 1\nY! != $(m \\\n n) \\\\ #c \\\n d\n\tdefine Q\n") ≡ Header ((codes "foo") ∷ []) SingleColon [] [] ((codes "$(f {)") ∷ []) None ∷ Assign (Sets [] (codes "Y!") Shell (codes "$(m n) \\\\")) ∷ DefineHead (codes "\tdefine Q") ∷ []
row_random_055 = refl

row_random_056 : reading (codes " t1 ?= -include2 #\n$(p #)  ${g(} : ifdef := a\\ %.c\n%.o\\\\\na&b &: Y::=.PHONY t # c\n") ≡ Assign (Sets [] (codes "t1") Conditional (codes "-include2")) ∷ TargetAssign ((codes "$(p #)") ∷ (codes "${g(}") ∷ []) SingleColon (Sets [] (codes "ifdef") Simple (codes "a\\ %.c")) ∷ Opaque (codes "%.o\\\\") ∷ Rough (codes "a&b &: Y::=.PHONY t # c") ∷ []
row_random_056 = refl

row_random_057 : reading (codes "c :\\\n\\\n$(q:;=|)\\\n\\\n${c} \n>endif\n$x &:foo Ã©\n> \n$x &: \noverride::=\\ \\\n${g(} \\\r\n $(s\\) =\n\\\\\n$$\neZ = 1\n\t\\\n+ ?= \\\n \\\n ${g(} \n") ≡ Header ((codes "c") ∷ []) SingleColon [] ((codes "$(q:;=|)") ∷ (codes "${c}") ∷ []) [] None ∷ Opaque (codes ">endif") ∷ Header ((codes "$x") ∷ []) GroupedColon [] ((codes "foo") ∷ (codes "Ã©") ∷ []) [] None ∷ Opaque (codes "> ") ∷ Header ((codes "$x") ∷ []) GroupedColon [] [] [] None ∷ Opaque (codes "override::=\\ \\\n${g(} \\\r\n $(s\\) =") ∷ Opaque (codes "\\\\") ∷ Opaque (codes "$$") ∷ Assign (Sets [] (codes "eZ") Recursive (codes "1")) ∷ Assign (Sets [] (codes "+") Conditional (codes "${g(}")) ∷ []
row_random_057 = refl

row_random_058 : reading (codes " \n$$\\\nc:: -x_9+=  #c \\\n d\n") ≡ TargetAssign ((codes "$$") ∷ (codes "c") ∷ []) DoubleColon (Sets [] (codes "-x_9") Append []) ∷ []
row_random_058 = refl

row_random_059 : reading (codes "\t \n\tl") ≡ Opaque (codes "\tl") ∷ []
row_random_059 = refl

row_random_060 : reading (codes "endef \\\n  ?=a ") ≡ Assign (Sets [] (codes "endef") Conditional (codes "a")) ∷ []
row_random_060 = refl

row_random_061 : reading (codes "foo&: %.o\\\r\n${c} |a&b $(p #)\\\n\n\t\\\ndefie?=  \nY= \t") ≡ Rough (codes "foo&: %.o\\\r\n${c} |a&b $(p #)\\\n") ∷ Recipe (codes "\\\ndefie?=  ") ∷ Assign (Sets [] (codes "Y") Recursive []) ∷ []
row_random_061 = refl

row_random_062 : reading [] ≡ []
row_random_062 = refl

row_random_063 : reading (codes "  \n\r\n\r") ≡ Opaque (codes "\r") ∷ []
row_random_063 = refl

row_random_064 : reading (codes "\r\n \\\n\r\nelse\r\na: \n \\\n\r\n>define\\\n$?+\r\nfoo :${c} | $(q:;=>|) \t.PHONY \r\n") ≡ Opaque (codes "else") ∷ Header ((codes "a") ∷ []) SingleColon [] [] [] None ∷ Opaque (codes ">define\\\n$?+") ∷ Header ((codes "foo") ∷ []) SingleColon [] ((codes "${c}") ∷ []) ((codes "$(q:;=>|)") ∷ (codes ".PHONY") ∷ []) None ∷ []
row_random_064 = refl

row_random_065 : reading (codes "a&b  ::  # \\\n.PHONY %.c :CC!= a\\:b #\\&\\\n\n") ≡ Header ((codes "a&b") ∷ []) DoubleColon [] [] [] None ∷ []
row_random_065 = refl

row_random_066 : reading (codes "x.o y: $(a b)  %.o\n.endef\n$(p #)::: ${g(}  : x.o |$(a b)  %.o ; :a&b \\\n  ") ≡ Header ((codes "x.o") ∷ (codes "y") ∷ []) SingleColon [] ((codes "$(a b)") ∷ (codes "%.o") ∷ []) [] None ∷ Opaque (codes ".endef") ∷ Rough (codes "$(p #)::: ${g(}  : x.o |$(a b)  %.o ; :a&b \\\n  ") ∷ []
row_random_066 = refl

row_random_067 : reading (codes "x.o y: $(s\\) $(s\\)\nA+=  # x ; y : z = 1\neendef\n\\\\\n(:\\\n\\\\\n\n$\\\\!\n#\nifdef :::= \\# .PHONY $(f {)\\\n\\\n#\\\\\\\n\n\ta \\\n\tb\n\\\n\t\n>y\r\n>\\\n\ntecho a # b\n") ≡ Header ((codes "x.o") ∷ (codes "y") ∷ []) SingleColon [] ((codes "$(s\\)") ∷ (codes "$(s\\)") ∷ []) [] None ∷ Assign (Sets [] (codes "A") Append []) ∷ Opaque (codes "eendef") ∷ Opaque (codes "\\\\") ∷ Rough (codes "(:\\\n\\\\") ∷ Opaque (codes "$\\\\!") ∷ Opaque (codes "ifdef :::= \\# .PHONY $(f {)\\\n\\\n#\\\\\\\n") ∷ Opaque (codes "\ta \\\n\tb") ∷ Opaque (codes ">y") ∷ Opaque (codes ">\\\n") ∷ Opaque (codes "techo a # b") ∷ []
row_random_067 = refl

row_random_068 : reading (codes "b:   \nendef x") ≡ Header ((codes "b") ∷ []) SingleColon [] [] [] None ∷ Opaque (codes "endef x") ∷ []
row_random_068 = refl

row_random_069 : reading (codes "\t \r\n$$ ::  #\r\n>t: u\r\nb :override >q \\\r\n :::=  1 = \r\nt1 =  ") ≡ Header ((codes "$$") ∷ []) DoubleColon [] [] [] None ∷ Header ((codes ">t") ∷ []) SingleColon [] ((codes "u") ∷ []) [] None ∷ TargetAssign ((codes "b") ∷ []) SingleColon (Sets (Override ∷ []) (codes ">q") Immediate (codes "1 =")) ∷ Assign (Sets [] (codes "t1") Recursive []) ∷ []
row_random_069 = refl

row_random_070 : reading (codes ".RECIPEPREFIX = X\r\nx.o y: \n#\nX)=)\r\n\t\\\nb: a &b\t: a&b \t\n\\\n#c \\\n d\nx.o y: $(s\\) c\n>y\r\nendif # c\nendif\r\nx.o y: %.c\n>ifdef Z\n$x  $(q:;=|)  &:  >q?= \n>q+= \\\n${c} %.c \\\na\\:b# \r") ≡ Assign (Sets [] (codes ".RECIPEPREFIX") Recursive (codes "X")) ∷ Header ((codes "x.o") ∷ (codes "y") ∷ []) SingleColon [] [] [] None ∷ Recipe (codes ")=)") ∷ Rough (codes "\t\\\nb: a &b\t: a&b \t") ∷ Header ((codes "x.o") ∷ (codes "y") ∷ []) SingleColon [] ((codes "$(s\\)") ∷ (codes "c") ∷ []) [] None ∷ Opaque (codes ">y") ∷ Opaque (codes "endif # c") ∷ Opaque (codes "endif") ∷ Header ((codes "x.o") ∷ (codes "y") ∷ []) SingleColon [] ((codes "%.c") ∷ []) [] None ∷ Opaque (codes ">ifdef Z") ∷ Rough (codes "$x  $(q:;=|)  &:  >q?= ") ∷ Opaque (codes ">q+= \\\n${c} %.c \\\na\\:b# \r") ∷ []
row_random_070 = refl

row_random_071 : reading (codes "a.b := $(s\\) \nfoo $( b)&: foo\t%.c a \nA += \\\n \\\n | #c \\\n d\n\ta\\\ndefine \\\n \\\n !=\\\n\t\\\r\n-include2 1 \0 \nt1 +=  # c\n") ≡ Assign (Sets [] (codes "a.b") Simple (codes "$(s\\)")) ∷ Header ((codes "foo") ∷ (codes "$( b)") ∷ []) GroupedColon [] ((codes "foo") ∷ (codes "%.c") ∷ (codes "a") ∷ []) [] None ∷ Assign (Sets [] (codes "A") Append (codes "|")) ∷ Opaque (codes "\ta\\\ndefine \\\n \\\n !=\\\n\t\\\r\n-include2 1 \0 ") ∷ Assign (Sets [] (codes "t1") Append []) ∷ []
row_random_071 = refl

row_random_072 : reading (codes "?\n>t: u\r\n \\\n\tendef # c\n # x ; y : z = 1\r\nx.o y: x.o x.o\r\n #\\\\\\\n") ≡ Opaque (codes "?") ∷ Header ((codes ">t") ∷ []) SingleColon [] ((codes "u") ∷ []) [] None ∷ Opaque (codes " \\\n\tendef # c") ∷ Header ((codes "x.o") ∷ (codes "y") ∷ []) SingleColon [] ((codes "x.o") ∷ (codes "x.o") ∷ []) [] None ∷ []
row_random_072 = refl

row_random_073 : reading (codes "\\\n#c \\\n d\nA ?=x.o \t$(q:;=|) 2 3 \n\\\n\n\ta\\\\\n\ta\\\r\n>b\n A\\\n\t\\\r\n+=$(a b)#\n>q := \\\\\\\r\n\na&b:::  ; \\\n  $ \\\\ #c \\\n d\n") ≡ Assign (Sets [] (codes "A") Conditional (codes "x.o \t$(q:;=|) 2 3")) ∷ Opaque (codes "\ta\\\\") ∷ Opaque (codes "\ta\\\r\n>b") ∷ Assign (Sets [] (codes "A") Append (codes "$(a b)")) ∷ Opaque (codes ">q := \\\\\\\r\n") ∷ Rough (codes "a&b:::  ; \\\n  $ \\\\ #c \\\n d") ∷ []
row_random_073 = refl

row_random_074 : reading (codes "ifdef!=\t\r\n\r\nprivate a\\= += $(f {) #\0\r\ney\r\r\ne#c\r\nt1 := $x  #c \\\n d\r\n\tX = \\\\\\c \\\nc  #c \\\n d\r\n") ≡ Assign (Sets [] (codes "ifdef") Shell []) ∷ Opaque (codes "private a\\= += $(f {) #\0") ∷ Opaque (codes "ey\r") ∷ Opaque (codes "e#c") ∷ Assign (Sets [] (codes "t1") Simple (codes "$x")) ∷ Assign (Sets [] (codes "X") Recursive (codes "\\\\\\c c")) ∷ []
row_random_074 = refl

row_random_075 : reading (codes "define += \\\n  foo \t\na&b&::$(a b)\\\n\t\\\r\n;foo# c\n\t\\\no-$(a b) = a\\  \\\\\\\\\\\\\t\noverride\\\n\t!= \\\r\n#\\\\\nendef=\t| : \na&b:::$(a b) \t: \\\n  ${c}\t-include2 .PHONY \n.RECIPEPREFIX:=e\n") ≡ Assign (Sets [] (codes "define") Append (codes "foo")) ∷ Header ((codes "a&b") ∷ []) GroupedDoubleColon [] ((codes "$(a b)") ∷ []) [] (Some (codes "foo# c")) ∷ Recipe (codes "\\\no-$(a b) = a\\  \\\\\\\\\\\\\t") ∷ Assign (Sets [] (codes "override") Shell []) ∷ Assign (Sets [] (codes "endef") Recursive (codes "| :")) ∷ Rough (codes "a&b:::$(a b) \t: \\\n  ${c}\t-include2 .PHONY ") ∷ Assign (Sets [] (codes ".RECIPEPREFIX") Simple (codes "e")) ∷ []
row_random_075 = refl

row_random_076 : reading (codes ">%.c\t: %.c \t$\nx \r\n") ≡ Rough (codes ">%.c\t: %.c \t$") ∷ Opaque (codes "x ") ∷ []
row_random_076 = refl

row_random_077 : reading (codes "a(\n${c} &: \\\r\n \t| ${c} b$(s\\) #\\\\\nY! :::=t.PHONY\\\na: a\nX :::=${u $(p #)\nendef#c\n\t$(f {) \t$(a b) \t: : a&b : b \t$(s\\)\t\n") ≡ Opaque (codes "a(") ∷ Header ((codes "${c}") ∷ []) GroupedColon [] [] ((codes "${c}") ∷ (codes "b$(s\\)") ∷ []) None ∷ Assign (Sets [] (codes "Y!") Immediate (codes "t.PHONY a: a")) ∷ Assign (Sets [] (codes "X") Immediate (codes "${u $(p #)")) ∷ Opaque (codes "endef#c") ∷ Opaque (codes "\t$(f {) \t$(a b) \t: : a&b : b \t$(s\\)\t") ∷ []
row_random_077 = refl

row_random_078 : reading (codes "\techo a # b\nt1 ?= %.o \\${ \nfoo: \n\t\r\n$x: foo : $(a b) x.o \r\nx.o\\\n\t &: $x $(a b)  a&b \nt:\\\r\n\r\nprivate Y :=\\ 1 \\# \\\r\n \r\n>x") ≡ Opaque (codes "\techo a # b") ∷ Assign (Sets [] (codes "t1") Conditional (codes "%.o \\${ ")) ∷ Header ((codes "foo") ∷ []) SingleColon [] [] [] None ∷ Recipe [] ∷ Header ((codes "$x") ∷ []) SingleColon ((codes "foo") ∷ []) ((codes "$(a b)") ∷ (codes "x.o") ∷ []) [] None ∷ Header ((codes "x.o") ∷ []) GroupedColon [] ((codes "$x") ∷ (codes "$(a b)") ∷ (codes "a&b") ∷ []) [] None ∷ Header ((codes "t") ∷ []) SingleColon [] [] [] None ∷ Assign (Sets (Private ∷ []) (codes "Y") Simple (codes "\\ 1 \\#")) ∷ Opaque (codes ">x") ∷ []
row_random_078 = refl

row_random_079 : reading (codes "-include2&:: -include2 c | $(p #)  $(a b)\r\nifdef A\r\nfoo: \n\t$(\n-include b c\na.b ::=\\\\  b \t=\r\nc: x.o: ; \r\n # \r\nA+=  \\\r\n #\n\t$(\n") ≡ Header ((codes "-include2") ∷ []) GroupedDoubleColon [] ((codes "-include2") ∷ (codes "c") ∷ []) ((codes "$(p #)") ∷ (codes "$(a b)") ∷ []) None ∷ If (codes "ifdef A") ∷ Header ((codes "foo") ∷ []) SingleColon [] [] [] None ∷ Recipe (codes "$(") ∷ Directive (codes "-include b c") ∷ Assign (Sets [] (codes "a.b") PosixSimple (codes "\\\\  b \t=")) ∷ Header ((codes "c") ∷ []) SingleColon ((codes "x.o") ∷ []) [] [] (Some (codes " ")) ∷ Assign (Sets [] (codes "A") Append []) ∷ Opaque (codes "\t$(") ∷ []
row_random_079 = refl

row_random_080 : reading (codes "$(a b)&: ${c} ;\\\n\t\\\r\n \n$x: $(u  $(a b)  $(f {) \nfoo: \nax\n\\bX=define:$\n$(X) += \\# \nY = \n\ta \\\n\tb\nA!=\\\r\n1 \\\n$$") ≡ Header ((codes "$(a b)") ∷ []) GroupedColon [] ((codes "${c}") ∷ []) [] (Some (codes "\\\n\t\\\r\n ")) ∷ Rough (codes "$x: $(u  $(a b)  $(f {) ") ∷ Header ((codes "foo") ∷ []) SingleColon [] [] [] None ∷ Opaque (codes "ax") ∷ Assign (Sets [] (codes "\\bX") Recursive (codes "define:$")) ∷ Assign (Sets [] (codes "$(X)") Append (codes "\\#")) ∷ Assign (Sets [] (codes "Y") Recursive []) ∷ Opaque (codes "\ta \\\n\tb") ∷ Assign (Sets [] (codes "A") Shell (codes "1 $$")) ∷ []
row_random_080 = refl

row_random_081 : reading (codes "\t\\\n\t\\\n\nendef(=\\\n$\n\t#c\n") ≡ Assign (Sets [] (codes "endef(") Recursive (codes "$")) ∷ []
row_random_081 = refl

row_random_082 : reading (codes "\t\n> u\n$(p #):%.o $(s\\)\\\nx.o# \\(\n-x_9 :=\\\n #\0\nels$e ifdef Q") ≡ Opaque (codes "> u") ∷ Header ((codes "$(p #)") ∷ []) SingleColon [] ((codes "%.o") ∷ (codes "$(s\\)") ∷ (codes "x.o") ∷ []) [] None ∷ Opaque (codes "-x_9 :=\\\n #\0") ∷ Opaque (codes "els$e ifdef Q") ∷ []
row_random_082 = refl

row_random_083 : reading (codes " \\\n\tCC ::=\\$x\r\n\ta\\\r\n>b\r\n$(q:;=|) : ${g(}  foo ;a\\:b \\# \r \r\n define \r\nendef\nendef#c\r\n") ≡ Assign (Sets [] (codes "CC") PosixSimple (codes "\\$x")) ∷ Opaque (codes "\ta\\\r\n>b") ∷ Opaque (codes "$(q:;=|) : ${g(}  foo ;a\\:b \\# \r ") ∷ DefineHead (codes " define ") ∷ Endef (codes "endef") ∷ Opaque (codes "endef#c") ∷ []
row_random_083 = refl

row_random_084 : reading (codes "\t\n #\0\nt&::x.o; $(f {) $\\\r\n\\\n\t\\\r\n\nb\\\ndefine\t\\\n=$\n\n:>\n\t\\\n|\r\t\\\n#?X>: endef+\na: a&b\nifeq (a,$(b\n\tZ = 1\n\tendef\n") ≡ Header ((codes "t") ∷ []) GroupedDoubleColon [] ((codes "x.o") ∷ []) [] (Some (codes " $(f {) $\\\r\n\\\n\t\\\r\n")) ∷ Opaque (codes "b\\\ndefine\t\\\n=$") ∷ Header [] SingleColon [] ((codes ">") ∷ []) [] None ∷ Recipe (codes "\\\n|\r\t\\\n#?X>: endef+") ∷ Header ((codes "a") ∷ []) SingleColon [] ((codes "a&b") ∷ []) [] None ∷ If (codes "ifeq (a,$(b") ∷ Recipe (codes "Z = 1") ∷ Recipe (codes "endef") ∷ []
row_random_084 = refl

row_random_085 : reading (codes "x.o c:  \n \n\tx\n \n=A =\n#") ≡ Header ((codes "x.o") ∷ (codes "c") ∷ []) SingleColon [] [] [] None ∷ Recipe (codes "x") ∷ Opaque (codes "=A =") ∷ []
row_random_085 = refl

row_random_086 : reading (codes "\texport\tendef := $(m \\\n n) \n ::\\\n\\\na.b?= b x.o \r\n") ≡ Assign (Sets (Export ∷ []) (codes "endef") Simple (codes "$(m n)")) ∷ TargetAssign [] DoubleColon (Sets [] (codes "a.b") Conditional (codes "b x.o")) ∷ []
row_random_086 = refl

row_random_087 : reading (codes "$x:::   \r\n>q?= .PHONY =\r\n") ≡ Rough (codes "$x:::   ") ∷ Assign (Sets [] (codes ">q") Conditional (codes ".PHONY =")) ∷ []
row_random_087 = refl

row_random_088 : reading (codes "$(p #) : \r\nexport .RECIPEPREFIX?=\\\n:\r\nx.o\t$(u:x.o  ${c} #\0\r\n #\r\n${c} :: \\\n \\\n \t\r\n>q =  foo \r\nifdef A\r\n") ≡ Header ((codes "$(p #)") ∷ []) SingleColon [] [] [] None ∷ Assign (Sets (Export ∷ []) (codes ".RECIPEPREFIX") Conditional (codes ":")) ∷ Opaque (codes "x.o\t$(u:x.o  ${c} #\0") ∷ Header ((codes "${c}") ∷ []) DoubleColon [] [] [] None ∷ Assign (Sets [] (codes ">q") Recursive (codes "foo")) ∷ If (codes "ifdef A") ∷ []
row_random_088 = refl

row_random_089 : reading (codes "o-$(a b) \\\n \\\n +=-include2 : \r\n?>\\\n\\\\\n\n \\\n\tendef\r\n$(s\\): a&b ; \\\r\n \\\n\t# \r\na: \n\t# \r\n export private define \r\n\t\\\n\r\nCC:::=\0 a%.o\\\\\n#\0\r\nifdef ?=\t ") ≡ Assign (Sets [] (codes "o-$(a b)") Append (codes "-include2 :")) ∷ Opaque (codes "?>\\\n\\\\") ∷ Opaque (codes " \\\n\tendef") ∷ Header ((codes "$(s\\)") ∷ []) SingleColon [] ((codes "a&b") ∷ []) [] (Some (codes " \\\r\n \\\n\t# ")) ∷ Header ((codes "a") ∷ []) SingleColon [] [] [] None ∷ Recipe (codes "# ") ∷ DefineHead (codes " export private define ") ∷ Body (codes "\t\\\n") ∷ Body (codes "CC:::=\0 a%.o\\\\") ∷ Body (codes "#\0") ∷ Body (codes "ifdef ?=\t ") ∷ []
row_random_089 = refl

row_random_090 : reading (codes "X  != \\\n  c: \\\n\na: b\\\n%.c\nifndef X # c\n\ta \\\n\tb\n\t\na .PHONY :::${c} : \ta&b \n\ta \\\n\tb\n\tt: u\n>x\nelse\nCC ?==  # x ; y : z = 1\nifeq (a,$(b\n ") ≡ Assign (Sets [] (codes "X") Shell (codes "c:")) ∷ Header ((codes "a") ∷ []) SingleColon [] ((codes "b") ∷ (codes "%.c") ∷ []) [] None ∷ If (codes "ifndef X # c") ∷ Recipe (codes "a \\\n\tb") ∷ Recipe [] ∷ Rough (codes "a .PHONY :::${c} : \ta&b ") ∷ Recipe (codes "a \\\n\tb") ∷ Recipe (codes "t: u") ∷ Opaque (codes ">x") ∷ Else (codes "else") ∷ Assign (Sets [] (codes "CC") Conditional (codes "=")) ∷ If (codes "ifeq (a,$(b") ∷ []
row_random_090 = refl

row_random_091 : reading (codes "i$fndef X # c\r\n") ≡ Opaque (codes "i$fndef X # c") ∷ []
row_random_091 = refl

row_random_092 : reading (codes ".RECIPEPREFIX = e\r\noverride a.b\t=\\\nc \r\nifneq\r\nCC ?= x.o$$\\\n #\\\\\\\n\r\nfoo: |\\\n${g(} \t$x ; foo ; a\\  # x ; y : z = 1\r\nx.o y: -iclude2\r\n$;&:: x.o| #\r\n") ≡ Assign (Sets [] (codes ".RECIPEPREFIX") Recursive (codes "e")) ∷ Assign (Sets (Override ∷ []) (codes "a.b") Recursive (codes "c")) ∷ If (codes "ifneq") ∷ Opaque (codes "CC ?= x.o$$\\\n #\\\\\\\n") ∷ Header ((codes "foo") ∷ []) SingleColon [] [] ((codes "${g(}") ∷ (codes "$x") ∷ []) (Some (codes " foo ; a\\  # x ; y : z = 1")) ∷ Header ((codes "x.o") ∷ (codes "y") ∷ []) SingleColon [] ((codes "-iclude2") ∷ []) [] None ∷ Rough (codes "$;&:: x.o| #") ∷ []
row_random_092 = refl

row_random_093 : reading (codes "\t\\\n}!\nx.o y: \n\techo a # b\nendef := .PHONY \\\r\n $#\\\n$(f {) # \r\n\t#c\nCC :::= a&b\n>x\n\tx\n t &::;a  \n$$ a&b : |\t-include2\tt \nendif\n\t$(\n>a\\\\\n") ≡ Opaque (codes "\t\\\n}!") ∷ Header ((codes "x.o") ∷ (codes "y") ∷ []) SingleColon [] [] [] None ∷ Recipe (codes "echo a # b") ∷ Assign (Sets [] (codes "endef") Simple (codes ".PHONY $# $(f {)")) ∷ Assign (Sets [] (codes "CC") Immediate (codes "a&b")) ∷ Opaque (codes ">x") ∷ Opaque (codes "\tx") ∷ Header ((codes "t") ∷ []) GroupedDoubleColon [] [] [] (Some (codes "a  ")) ∷ Header ((codes "$$") ∷ (codes "a&b") ∷ []) SingleColon [] [] ((codes "-include2") ∷ (codes "t") ∷ []) None ∷ Opaque (codes "endif") ∷ Opaque (codes "\t$(") ∷ Opaque (codes ">a\\\\") ∷ []
row_random_093 = refl

row_random_094 : reading (codes "$(a b) x.o\\\r\n&: \\\n \\\n ifdef ?= $\\\n  \r\nx.o y: -include2\neifdef Z\n>\\\n\nt \r\n.ifdef Z\n-include2\\\n%.c :\t%.c $(s\\) \t\na: .PHONY\n>\\\n\na.b +=  # \\\r\nendif # c\r\n>ifdef Z\n") ≡ Rough (codes "$(a b) x.o\\\r\n&: \\\n \\\n ifdef ?= $\\\n  ") ∷ Header ((codes "x.o") ∷ (codes "y") ∷ []) SingleColon [] ((codes "-include2") ∷ []) [] None ∷ Opaque (codes "eifdef Z") ∷ Opaque (codes ">\\\n") ∷ Opaque (codes "t ") ∷ Opaque (codes ".ifdef Z") ∷ Header ((codes "-include2") ∷ (codes "%.c") ∷ []) SingleColon [] ((codes "%.c") ∷ (codes "$(s\\)") ∷ []) [] None ∷ Header ((codes "a") ∷ []) SingleColon [] ((codes ".PHONY") ∷ []) [] None ∷ Opaque (codes ">\\\n") ∷ Assign (Sets [] (codes "a.b") Append []) ∷ Opaque (codes ">ifdef Z") ∷ []
row_random_094 = refl

row_random_095 : reading [] ≡ []
row_random_095 = refl

row_random_096 : reading (codes "\\\tfoo: $(a b) \t${g(} \n>$(\n$x : -include2 a \n\ta\\\\\n$(a b) c :: CC +=x.o\\\r\nb\\\n\t\\\r\n=\nelse ifdef Q\n\t# x ; y : z = 1\n") ≡ Rough (codes "\\\tfoo: $(a b) \t${g(} ") ∷ Opaque (codes ">$(") ∷ Header ((codes "$x") ∷ []) SingleColon [] ((codes "-include2") ∷ (codes "a") ∷ []) [] None ∷ Recipe (codes "a\\\\") ∷ TargetAssign ((codes "$(a b)") ∷ (codes "c") ∷ []) DoubleColon (Sets [] (codes "CC") Append (codes "x.o b =")) ∷ Opaque (codes "else ifdef Q") ∷ Opaque (codes "\t# x ; y : z = 1") ∷ []
row_random_096 = refl

row_random_097 : reading (codes ".RECIPEPREFIX = e\nexport \tY \t:= $(f {) c \nifndef X # c\n\tx\nexport CC?= ;\t${u$(s\\)\n\t#c\n") ≡ Assign (Sets [] (codes ".RECIPEPREFIX") Recursive (codes "e")) ∷ Assign (Sets (Export ∷ []) (codes "Y") Simple (codes "$(f {) c")) ∷ If (codes "ifndef X # c") ∷ Opaque (codes "\tx") ∷ Opaque (codes "export CC?= ;\t${u$(s\\)") ∷ []
row_random_097 = refl

row_random_098 : reading (codes "foo &: -include2\t$(q:;=|)\\\n$(f {)\\\n\t| \\\n  t ; a\\:b\\ \\\\ \r\n\tifdef ?= 1 \r\n \\\n\tdefine .RECIPEPREFIX\r\n") ≡ Header ((codes "foo") ∷ []) GroupedColon [] ((codes "-include2") ∷ (codes "$(q:;=|)") ∷ (codes "$(f {)") ∷ []) ((codes "t") ∷ []) (Some (codes " a\\:b\\ \\\\ ")) ∷ Recipe (codes "ifdef ?= 1 ") ∷ DefineHead (codes " \\\n\tdefine .RECIPEPREFIX") ∷ []
row_random_098 = refl

row_random_099 : reading (codes "\t\\\n\n") ≡ []
row_random_099 = refl

row_random_100 : reading (codes "$(s\\) :  ${g(}\n\ty\r\nb:${g(}\\\n\n>x\nA?= $  \t\n") ≡ Header ((codes "$(s\\)") ∷ []) SingleColon [] ((codes "${g(}") ∷ []) [] None ∷ Recipe (codes "y") ∷ Header ((codes "b") ∷ []) SingleColon [] ((codes "${g(}") ∷ []) [] None ∷ Opaque (codes ">x") ∷ Assign (Sets [] (codes "A") Conditional (codes "$ ")) ∷ []
row_random_100 = refl

row_random_101 : reading (codes "\n{endef|\t\\\n=\nCC?=  #\\\\\n") ≡ Assign (Sets [] (codes "{endef|") Recursive []) ∷ Assign (Sets [] (codes "CC") Conditional []) ∷ []
row_random_101 = refl

row_random_102 : reading (codes "else ifdef Q\n \\\n\t${g(}  $(s\\) :: override :=\t\r \n\\#x ::=\t# c\nx.o&::  ;\\\r\n\n>q := a\\  \ndefine E # c\n>$(a b): a&b  :$x $(f {) \n") ≡ Opaque (codes "else ifdef Q") ∷ Opaque (codes " \\\n\t${g(}  $(s\\) :: override :=\t\r ") ∷ Assign (Sets [] (codes "\\#x") PosixSimple []) ∷ Header ((codes "x.o") ∷ []) GroupedDoubleColon [] [] [] (Some (codes "\\\r\n")) ∷ Assign (Sets [] (codes ">q") Simple (codes "a\\ ")) ∷ DefineHead (codes "define E # c") ∷ Body (codes ">$(a b): a&b  :$x $(f {) ") ∷ []
row_random_102 = refl

row_random_103 : reading (codes "%.c  &: $x a&b  foo# \\\n\\\nendef += $x2 #c \\\n d\r\n\ta: \\\n \\\n  ;\\\n\\\n\0 x  y : \n\\\n$(s\\) &::$x\t: $(f {)\nendef += $\\\n \\\\\\\n\n") ≡ Header ((codes "%.c") ∷ []) GroupedColon [] ((codes "$x") ∷ (codes "a&b") ∷ (codes "foo") ∷ []) [] None ∷ Recipe (codes "a: \\\n \\\n  ;\\\n\\\n\0 x  y : ") ∷ Rough (codes "\\\n$(s\\) &::$x\t: $(f {)") ∷ Opaque (codes "endef += $\\\n \\\\\\\n") ∷ []
row_random_103 = refl

row_random_104 : reading (codes "vpath %.c a\n  : a.b!= \\ #c \\\n d\n\tx\n\tendif\n$(s\\):$$ ;  \\\\") ≡ Directive (codes "vpath %.c a") ∷ TargetAssign [] SingleColon (Sets [] (codes "a.b") Shell (codes "\\ ")) ∷ Opaque (codes "\tx") ∷ Opaque (codes "\tendif") ∷ Header ((codes "$(s\\)") ∷ []) SingleColon [] ((codes "$$") ∷ []) [] (Some (codes "  \\\\")) ∷ []
row_random_104 = refl

row_random_105 : reading (codes "#c \\\n d\n\t\\\n%.o :%.o\\\n\\\n: t \tb \\\n \\\n \n\t \n") ≡ Opaque (codes "\t\\\n%.o :%.o\\\n\\\n: t \tb \\\n \\\n ") ∷ Opaque (codes "\t ") ∷ []
row_random_105 = refl

row_random_106 : reading (codes "b : \\\n.=ONY  b \\\n  ! \n>a \\\n\tb\n>\\\n\r\n\t?a \r\n") ≡ TargetAssign ((codes "b") ∷ []) SingleColon (Sets [] (codes ".") Recursive (codes "ONY  b !")) ∷ Opaque (codes ">a \\\n\tb") ∷ Opaque (codes ">\\\n") ∷ Opaque (codes "\t?a ") ∷ []
row_random_106 = refl

row_random_107 : reading (codes "endif\r\n$\\:\\\n${c} : foo \\\n \\\\\\\n\n %.c #\\\\\\\n\r\n$(s\\):\\\n\\\n$() \\\r\n |  \n\ta\\\n>x\r\nCC\\\n\\\n:=$# $#$\\\n  \r\n$x:: $; \r\n.a\\\r\n") ≡ Opaque (codes "endif") ∷ Opaque (codes "$\\:\\\n${c} : foo \\\n \\\\\\\n") ∷ Opaque (codes " %.c #\\\\\\\n") ∷ Header ((codes "$(s\\)") ∷ []) SingleColon [] ((codes "$()") ∷ []) [] None ∷ Recipe (codes "a\\\n>x") ∷ Assign (Sets [] (codes "CC") Simple (codes "$# $#$ ")) ∷ Header ((codes "$x") ∷ []) DoubleColon [] ((codes "$;") ∷ []) [] None ∷ Opaque (codes ".a\\") ∷ []
row_random_107 = refl

row_random_108 : reading (codes ".PHONY $$  : ") ≡ Header ((codes ".PHONY") ∷ (codes "$$") ∷ []) SingleColon [] [] [] None ∷ []
row_random_108 = refl

row_random_109 : reading (codes "a: \n \\\n\n\techo a # b\n>\\\n\r\nY !=$(a b)$(a b)\t${u\t\r\nt::: $(p #) :$(s\\) \tb  b # x ; y : z = 1\r\n>q\\\n\\\n:::=  # \r\r\n.PHONY:$$ \\\n# \r\r\n\t \r\nta\\\r\n>b\r\n$(f {) :$(a b) ; x.o x  y\r\n") ≡ Header ((codes "a") ∷ []) SingleColon [] [] [] None ∷ Recipe (codes "echo a # b") ∷ Opaque (codes ">\\\n") ∷ Assign (Sets [] (codes "Y") Shell (codes "$(a b)$(a b)\t${u\t")) ∷ Rough (codes "t::: $(p #) :$(s\\) \tb  b # x ; y : z = 1") ∷ Opaque (codes ">q\\\n\\\n:::=  # \r") ∷ Opaque (codes ".PHONY:$$ \\\n# \r") ∷ Opaque (codes "\t ") ∷ Opaque (codes "ta\\\r\n>b") ∷ Header ((codes "$(f {)") ∷ []) SingleColon [] ((codes "$(a b)") ∷ []) [] (Some (codes " x.o x  y")) ∷ []
row_random_109 = refl

row_random_110 : reading (codes "\techo a # b\r\n${c;} ::: \\\n  %.o \tx=1 \r\n\t ") ≡ Opaque (codes "\techo a # b") ∷ Rough (codes "${c;} ::: \\\n  %.o \tx=1 ") ∷ Recipe (codes " ") ∷ []
row_random_110 = refl

row_random_111 : reading (codes "foo: $(f {) $(f {)\n \\\n\n%.c\\\n\t.PHONY: $(q:;=|) \\\n$x -include2 \net: u\n") ≡ Header ((codes "foo") ∷ []) SingleColon [] ((codes "$(f {)") ∷ (codes "$(f {)") ∷ []) [] None ∷ Header ((codes "%.c") ∷ (codes ".PHONY") ∷ []) SingleColon [] ((codes "$(q:;=|)") ∷ (codes "$x") ∷ (codes "-include2") ∷ []) [] None ∷ Header ((codes "et") ∷ []) SingleColon [] ((codes "u") ∷ []) [] None ∷ []
row_random_111 = refl

row_random_112 : reading (codes "t x.o \t:: Y:::=$x \t= b\noverride\t=\\$x \\\n\n:: export \\#x  +=\tx  y \nexport .RECIPEPREFIX\\\n\t\\\r\n::= a&b  $\\\r\n \\\n  foo\nt \n") ≡ TargetAssign ((codes "t") ∷ (codes "x.o") ∷ []) DoubleColon (Sets [] (codes "Y") Immediate (codes "$x \t= b")) ∷ Assign (Sets [] (codes "override") Recursive (codes "\\$x")) ∷ TargetAssign [] DoubleColon (Sets (Export ∷ []) (codes "\\#x") Append (codes "x  y")) ∷ Assign (Sets (Export ∷ []) (codes ".RECIPEPREFIX") PosixSimple (codes "a&b  $ foo")) ∷ Opaque (codes "t ") ∷ []
row_random_112 = refl

row_random_113 : reading (codes "${g(} : $(a b) : \t$(p #)\t%.o \t-include2 \r\nb: | ${c}\r\nx.o &: $(p #)\tfoo \t%.o? \\\n;\\\r\n \t\n\t\0\r\n") ≡ Header ((codes "${g(}") ∷ []) SingleColon ((codes "$(a b)") ∷ []) ((codes "$(p #)") ∷ (codes "%.o") ∷ (codes "-include2") ∷ []) [] None ∷ Header ((codes "b") ∷ []) SingleColon [] [] ((codes "${c}") ∷ []) None ∷ Header ((codes "x.o") ∷ []) GroupedColon [] ((codes "$(p #)") ∷ (codes "foo") ∷ (codes "%.o?") ∷ []) [] (Some (codes "\\\r\n \t")) ∷ Recipe (codes "\0") ∷ []
row_random_113 = refl

row_random_114 : reading (codes "x.o y: ${g(} \t$(p #)\n\tt: u\n.endif\r\n>q?= 1foo\r\n#\\\\\r\n\t-include2 :  a&b \r\n\t\\\n%.o &: foo\r\n>t: u\r\n") ≡ Header ((codes "x.o") ∷ (codes "y") ∷ []) SingleColon [] ((codes "${g(}") ∷ (codes "$(p #)") ∷ []) [] None ∷ Recipe (codes "t: u") ∷ Opaque (codes ".endif") ∷ Assign (Sets [] (codes ">q") Conditional (codes "1foo")) ∷ Opaque (codes "\t-include2 :  a&b ") ∷ Opaque (codes "\t\\\n%.o &: foo") ∷ Header ((codes ">t") ∷ []) SingleColon [] ((codes "u") ∷ []) [] None ∷ []
row_random_114 = refl

row_random_115 : reading (codes ".RECIPEPREFIX = t\r\nX \t::=\r\n\r\n") ≡ Assign (Sets [] (codes ".RECIPEPREFIX") Recursive (codes "t")) ∷ Assign (Sets [] (codes "X") PosixSimple []) ∷ []
row_random_115 = refl

row_random_116 : reading [] ≡ []
row_random_116 = refl

row_random_117 : reading (codes "endef\n \n") ≡ Opaque (codes "endef") ∷ []
row_random_117 = refl

row_random_118 : reading (codes "${c}  b: $x\r\n%.c:$$ \\\n  $x .PHONY|\\\r\n$; x.o \\\n\r\n\t$(\r\na\t:: X::= \\\r\n  \r\noverride \t?= a-include2 a\\:b  \r\nt$(\r\n>x\r\nfoo: $(q:;=|)\n\nendif\r\n") ≡ Header ((codes "${c}") ∷ (codes "b") ∷ []) SingleColon [] ((codes "$x") ∷ []) [] None ∷ Rough (codes "%.c:$$ \\\n  $x .PHONY|\\\r\n$; x.o \\\n") ∷ Recipe (codes "$(") ∷ TargetAssign ((codes "a") ∷ []) DoubleColon (Sets [] (codes "X") PosixSimple []) ∷ Assign (Sets [] (codes "override") Conditional (codes "a-include2 a\\:b")) ∷ Opaque (codes "t$(") ∷ Opaque (codes ">x") ∷ Header ((codes "foo") ∷ []) SingleColon [] ((codes "$(q:;=|)") ∷ []) [] None ∷ Opaque (codes "endif") ∷ []
row_random_118 = refl

row_random_119 : reading (codes ".PHONY& $g(}\tc  $(p #) # x \0; y : z = 1\n\t$(\nX != $$ 2 3 \\\n \\\n # c\n") ≡ Opaque (codes ".PHONY& $g(}\tc  $(p #) # x \0; y : z = 1") ∷ Opaque (codes "\t$(") ∷ Assign (Sets [] (codes "X") Shell (codes "$$ 2 3")) ∷ []
row_random_119 = refl

row_random_120 : reading (codes "\\\n\n\t\\\n)\\?\t\\;\n\n\tendef=") ≡ Opaque (codes "\t\\\n)\\?\t\\;") ∷ Opaque (codes "\tendef=") ∷ []
row_random_120 = refl

row_random_121 : reading (codes "?$(a;b)&:: x.o : c %.o \n$(q:;=|)\\\\\n &: t t a&b# \r\n endef\n") ≡ Rough (codes "?$(a;b)&:: x.o : c %.o ") ∷ Opaque (codes "$(q:;=|)\\\\") ∷ Header [] GroupedColon [] ((codes "t") ∷ (codes "t") ∷ (codes "a&b") ∷ []) [] None ∷ Opaque (codes " endef") ∷ []
row_random_121 = refl

row_random_122 : reading (codes "aa\\\r\n\ta.b  =  # \\") ≡ Opaque (codes "aa\\\r\n\ta.b  =  # \\") ∷ []
row_random_122 = refl

row_random_123 : reading (codes "a&b :%.o -include2 $(q:;=|) \n>\\\n\n>a&b: \\\r\n $$ %.c ; $(m \\\n n)\n# c\na.b ::= %.o\\\n\t\\\r\nb\\\r\n$(q:;=|) \n>a \\\n\tb\n") ≡ Header ((codes "a&b") ∷ []) SingleColon [] ((codes "%.o") ∷ (codes "-include2") ∷ (codes "$(q:;=|)") ∷ []) [] None ∷ Opaque (codes ">\\\n") ∷ Header ((codes ">a&b") ∷ []) SingleColon [] ((codes "$$") ∷ (codes "%.c") ∷ []) [] (Some (codes " $(m \\\n n)")) ∷ Assign (Sets [] (codes "a.b") PosixSimple (codes "%.o b $(q:;=|)")) ∷ Opaque (codes ">a \\\n\tb") ∷ []
row_random_123 = refl

row_random_124 : reading (codes ".RECIPEPREFIX = :\r\nexport define\r\na: $(s\\)") ≡ Assign (Sets [] (codes ".RECIPEPREFIX") Recursive (codes ":")) ∷ DefineHead (codes "export define") ∷ Body (codes "a: $(s\\)") ∷ []
row_random_124 = refl

row_random_125 : reading (codes "a: c\\\r\n$(a b)\neZ = 1\n") ≡ Header ((codes "a") ∷ []) SingleColon [] ((codes "c") ∷ (codes "$(a b)") ∷ []) [] None ∷ Assign (Sets [] (codes "eZ") Recursive (codes "1")) ∷ []
row_random_125 = refl

row_random_126 : reading (codes " # \\\ne\n\ta\\\\\nX}}##!\ntecho a # b\ntelse\r") ≡ Opaque (codes "\ta\\\\") ∷ Opaque (codes "X}}##!") ∷ Opaque (codes "techo a # b") ∷ Opaque (codes "telse\r") ∷ []
row_random_126 = refl

row_random_127 : reading (codes ".RECIPEPREFIX = >\r\n #\r\n\tendef\r\n\tZ = 1\r\nx.o y: a&b $(p #)\n\t \n\n>$(") ≡ Assign (Sets [] (codes ".RECIPEPREFIX") Recursive (codes ">")) ∷ Opaque (codes "\tendef") ∷ Assign (Sets [] (codes "Z") Recursive (codes "1")) ∷ Header ((codes "x.o") ∷ (codes "y") ∷ []) SingleColon [] ((codes "a&b") ∷ (codes "$(p #)") ∷ []) [] None ∷ Recipe (codes "$(") ∷ []
row_random_127 = refl

row_random_128 : reading (codes "$(q:;=|) \\\n \\\n ${c}::\\#x ?= 2 3 \0$(p #) \r\noverride define X =\r\n$(p #): ${c} \tx.o $(a b) \r\n\t\\\n\r\na: t\nendif\n\tx\r\n") ≡ Opaque (codes "$(q:;=|) \\\n \\\n ${c}::\\#x ?= 2 3 \0$(p #) ") ∷ DefineHead (codes "override define X =") ∷ Body (codes "$(p #): ${c} \tx.o $(a b) ") ∷ Body (codes "\t\\\n") ∷ Body (codes "a: t") ∷ Body (codes "endif") ∷ Body (codes "\tx") ∷ []
row_random_128 = refl

row_random_129 : reading (codes "{X\n\r\n") ≡ Opaque (codes "{X") ∷ []
row_random_129 = refl

row_random_130 : reading [] ≡ []
row_random_130 = refl

row_random_131 : reading (codes "override override :=1#\r\n$(p #)&::  \nea\\\r\n>b\r\n$$:  \n\ta\\\\\r\n${c} :: $(q:;=|)\t.PHONY | $(f {) $$ \r\n{\n&\0\n.RECIPEPREFIX?=Ã\r\n") ≡ Assign (Sets (Override ∷ []) (codes "override") Simple (codes "1")) ∷ Header ((codes "$(p #)") ∷ []) GroupedDoubleColon [] [] [] None ∷ Opaque (codes "ea\\\r\n>b") ∷ Header ((codes "$$") ∷ []) SingleColon [] [] [] None ∷ Recipe (codes "a\\\\") ∷ Header ((codes "${c}") ∷ []) DoubleColon [] ((codes "$(q:;=|)") ∷ (codes ".PHONY") ∷ []) ((codes "$(f {)") ∷ (codes "$$") ∷ []) None ∷ Opaque (codes "{") ∷ Opaque (codes "&\0") ∷ Assign (Sets [] (codes ".RECIPEPREFIX") Conditional (codes "Ã")) ∷ []
row_random_131 = refl

row_random_132 : reading (codes "$(p #\\\n  -include2 :\\\n\\\n%.c %.o\\\r\n\n>a\\\\\nendef\n") ≡ Opaque (codes "$(p #\\\n  -include2 :\\\n\\\n%.c %.o\\\r\n") ∷ Opaque (codes ">a\\\\") ∷ Opaque (codes "endef") ∷ []
row_random_132 = refl

row_random_133 : reading (codes "-x_9 =\\\n$\\\n \r\n\\\n:A !=foo -include2#c \\\n d\r\noverride ?= | \r\na?\nb\\\\\n:;\0\r\n : Y :::= c \\\n\r\ndefine F \\\n\r\n") ≡ Assign (Sets [] (codes "-x_9") Recursive (codes "$ ")) ∷ TargetAssign [] SingleColon (Sets [] (codes "A") Shell (codes "foo -include2")) ∷ Assign (Sets [] (codes "override") Conditional (codes "|")) ∷ Opaque (codes "a?") ∷ Opaque (codes "b\\\\") ∷ Opaque (codes ":;\0") ∷ TargetAssign [] SingleColon (Sets [] (codes "Y") Immediate (codes "c")) ∷ DefineHead (codes "define F \\\n") ∷ []
row_random_133 = refl

row_random_134 : reading (codes "# x ; y : z = 1\nfoo  &: c a \t|$(q:;=|)\\\n\\\n$$ \n # x ; y : z = 1\n${g(} : $(a b)\\\r\n$\t |  \n\tendif\n&:t1 = #\\\\") ≡ Rough (codes "foo  &: c a \t|$(q:;=|)\\\n\\\n$$ ") ∷ Rough (codes "${g(} : $(a b)\\\r\n$\t |  ") ∷ Recipe (codes "endif") ∷ Rough (codes "&:t1 = #\\\\") ∷ []
row_random_134 = refl

row_random_135 : reading (codes "CC\t:=  #\0\nifdef\n \\\n :::= \\# \nelse ifdef Q\nt1 +=$ #\\\\\n\ta\\)\n.a\\\r\n>b#\nea =\tb\n\tZ = 1\n") ≡ Opaque (codes "CC\t:=  #\0") ∷ If (codes "ifdef") ∷ Rough (codes " \\\n :::= \\# ") ∷ Else (codes "else ifdef Q") ∷ Assign (Sets [] (codes "t1") Append (codes "$ ")) ∷ Opaque (codes "\ta\\)") ∷ Opaque (codes ".a\\\r\n>b#") ∷ Assign (Sets [] (codes "ea") Recursive (codes "b")) ∷ Assign (Sets [] (codes "Z") Recursive (codes "1")) ∷ []
row_random_135 = refl

row_random_136 : reading (codes "ifdef A\r\nb :::%.o a&b \r\n.c &:\r:   \\\\\nnclude a\nifdef ::=  \r\n(\\\n$}\t\\\n\n\t\\\n-include2: : -include2:  ") ≡ If (codes "ifdef A") ∷ Rough (codes "b :::%.o a&b ") ∷ Opaque (codes ".c &:\r:   \\\\") ∷ Opaque (codes "nclude a") ∷ Assign (Sets [] (codes "ifdef") PosixSimple []) ∷ Opaque (codes "(\\\n$}\t\\\n") ∷ Opaque (codes "\t\\\n-include2: : -include2:  ") ∷ []
row_random_136 = refl

row_random_137 : reading (codes "#c \\\n d\r\n\t\\\nX :::= %.o $(m \\\n n) \\\n \\\n x.o \n") ≡ Assign (Sets [] (codes "X") Immediate (codes "%.o $(m n) x.o")) ∷ []
row_random_137 = refl

row_random_138 : reading (codes "|!define=#\t\\\n> \nX != ; \n$(s\\)::|a:b ${c}\\\n\r\n\\\nX ?= \tc") ≡ Assign (Sets [] (codes "|!define") Recursive []) ∷ Assign (Sets [] (codes "X") Shell (codes ";")) ∷ Rough (codes "$(s\\)::|a:b ${c}\\\n") ∷ Assign (Sets [] (codes "X") Conditional (codes "c")) ∷ []
row_random_138 = refl

row_random_139 : reading (codes "\r\n\ta\\\n") ≡ Opaque (codes "\ta\\") ∷ []
row_random_139 = refl

row_random_140 : reading (codes ".\n${c} \\\n  a: -\\include2\t%.o\na: %.o\\\n\t\0.:\nx.o \\\r\n : ${c} \\\n  ") ≡ Opaque (codes ".") ∷ Rough (codes "${c} \\\n  a: -\\include2\t%.o") ∷ Opaque (codes "a: %.o\\\n\t\0.:") ∷ Header ((codes "x.o") ∷ []) SingleColon [] ((codes "${c}") ∷ []) [] None ∷ []
row_random_140 = refl

row_random_141 : reading (codes "foo &: $(q:;=|) \t${g\t\\\n} \t.PHONY #\\\\\rX") ≡ Opaque (codes "foo &: $(q:;=|) \t${g\t\\\n} \t.PHONY #\\\\\rX") ∷ []
row_random_141 = refl

row_random_142 : reading (codes "foo $(a b) :\\\n\n\n#\\\\\n\0\\\n\tprivate\n\t\\\n\naa\\\\\n") ≡ Header ((codes "foo") ∷ (codes "$(a b)") ∷ []) SingleColon [] [] [] None ∷ Opaque (codes "\0\\\n\tprivate") ∷ Opaque (codes "\t\\\n") ∷ Opaque (codes "aa\\\\") ∷ []
row_random_142 = refl

row_random_143 : reading (codes "\ta\\\r\n>b\n${g(}&:: $(q:;=|)\t$(q:;=|) \\\na ; x  y a&b $(p #) \n> \n -include2\t&:: \\\n | a&b ; b # c\n$$: %.c\t(a b) \t| \n\n>t: u\nY::=  \\\r\n \n\\#x ?=\\\n\\\n ") ≡ Opaque (codes "\ta\\\r\n>b") ∷ Header ((codes "${g(}") ∷ []) GroupedDoubleColon [] ((codes "$(q:;=|)") ∷ (codes "$(q:;=|)") ∷ (codes "a") ∷ []) [] (Some (codes " x  y a&b $(p #) ")) ∷ Opaque (codes "> ") ∷ Header ((codes "-include2") ∷ []) GroupedDoubleColon [] [] ((codes "a&b") ∷ []) (Some (codes " b # c")) ∷ Header ((codes "$$") ∷ []) SingleColon [] ((codes "%.c") ∷ (codes "(a") ∷ (codes "b)") ∷ []) [] None ∷ Header ((codes ">t") ∷ []) SingleColon [] ((codes "u") ∷ []) [] None ∷ Assign (Sets [] (codes "Y") PosixSimple []) ∷ Assign (Sets [] (codes "\\#x") Conditional []) ∷ []
row_random_143 = refl

row_random_144 : reading (codes "\t \nifneq\n\tendif\n>t: u\nt a\\\r\n&: \\\n  CC ::=\\\n\tt \n") ≡ If (codes "ifneq") ∷ Endif (codes "\tendif") ∷ Header ((codes ">t") ∷ []) SingleColon [] ((codes "u") ∷ []) [] None ∷ Rough (codes "t a\\\r\n&: \\\n  CC ::=\\\n\tt ") ∷ []
row_random_144 = refl

row_random_145 : reading (codes "$x&:\t\n\ty\r\r\n>else\r\na&b: :a .PHONY  foo |\\\n\t\\\r\n \\\r\n ;\\\\\n\ntelse\na: $(s\\)\n.t: u\r\n") ≡ Header ((codes "$x") ∷ []) GroupedColon [] [] [] None ∷ Recipe (codes "y\r") ∷ Opaque (codes ">else") ∷ Rough (codes "a&b: :a .PHONY  foo |\\\n\t\\\r\n \\\r\n ;\\\\") ∷ Opaque (codes "telse") ∷ Header ((codes "a") ∷ []) SingleColon [] ((codes "$(s\\)") ∷ []) [] None ∷ Header ((codes ".t") ∷ []) SingleColon [] ((codes "u") ∷ []) [] None ∷ []
row_random_145 = refl

row_random_146 : reading (codes "\t \n>a\\\r\n>b\n\tendef # c\n$(f {)\\\n\t\\\r\n:  $(a b) ${c} %.c |\t-include2\\\n\t\\\r\n\n$(f {) : ${g(}\t:\nCC \t=#\\\\\\\n\n b: : \\\r\n ${g(}\n") ≡ Opaque (codes ">a\\\r\n>b") ∷ Opaque (codes "\tendef # c") ∷ Header ((codes "$(f {)") ∷ []) SingleColon [] ((codes "$(a b)") ∷ (codes "${c}") ∷ (codes "%.c") ∷ []) ((codes "-include2") ∷ []) None ∷ Header ((codes "$(f {)") ∷ []) SingleColon ((codes "${g(}") ∷ []) [] [] None ∷ Opaque (codes "CC \t=#\\\\\\\n") ∷ Rough (codes " b: : \\\r\n ${g(}") ∷ []
row_random_146 = refl

row_random_147 : reading (codes "x.o y: \n\t \r\n$$ :: \r\n") ≡ Header ((codes "x.o") ∷ (codes "y") ∷ []) SingleColon [] [] [] None ∷ Recipe (codes " ") ∷ Header ((codes "$$") ∷ []) DoubleColon [] [] [] None ∷ []
row_random_147 = refl

row_random_148 : reading (codes " # \r\na: \n\t$(\nif}eq\n\ty\r\nexport\n") ≡ Header ((codes "a") ∷ []) SingleColon [] [] [] None ∷ Recipe (codes "$(") ∷ Opaque (codes "if}eq") ∷ Opaque (codes "\ty") ∷ Directive (codes "export") ∷ []
row_random_148 = refl

row_random_149 : reading (codes "x.o y: $x $(q:>;=|)\n\ta\\\\\noverri\\de endefdefine X\n ende#c\n") ≡ Header ((codes "x.o") ∷ (codes "y") ∷ []) SingleColon [] ((codes "$x") ∷ (codes "$(q:>;=|)") ∷ []) [] None ∷ Recipe (codes "a\\\\") ∷ Opaque (codes "overri\\de endefdefine X") ∷ Opaque (codes " ende#c") ∷ []
row_random_149 = refl

row_random_150 : reading (codes ".RECIPEPREFIX = $$\nfoo: x.o  %.o\n\tZ = 1\n$(p #) : %.c # \\\n$(q:;=|)  &: x.o $x .PHONY#c \\\n d") ≡ Assign (Sets [] (codes ".RECIPEPREFIX") Recursive (codes "$$")) ∷ Header ((codes "foo") ∷ []) SingleColon [] ((codes "x.o") ∷ (codes "%.o") ∷ []) [] None ∷ Recipe (codes "Z = 1") ∷ Header ((codes "$(p #)") ∷ []) SingleColon [] ((codes "%.c") ∷ []) [] None ∷ []
row_random_150 = refl

row_random_151 : reading (codes "\t$(\n$(s\\)&: t1 != \no $# $#\nendef # c\n") ≡ Opaque (codes "\t$(") ∷ Rough (codes "$(s\\)&: t1 != ") ∷ Opaque (codes "o $# $#") ∷ Opaque (codes "endef # c") ∷ []
row_random_151 = refl

row_random_152 : reading (codes " private\r\n>\\\n\r\n$x:$(a b)| c#\\\\\\\n\r\n #\\\\\\\n\r\nY += \\\n  t  \r\n") ≡ Opaque (codes " private") ∷ Opaque (codes ">\\\n") ∷ Opaque (codes "$x:$(a b)| c#\\\\\\\n") ∷ Assign (Sets [] (codes "Y") Append (codes "t")) ∷ []
row_random_152 = refl

row_random_153 : reading (codes " \\\n\tendef#c\n\t#c\n$\nexport privat define D\nfoo: -include2\n\t\nb \t::  \\\n|\\\n\t\\\r\n.PHONY  foo \n") ≡ Opaque (codes " \\\n\tendef#c") ∷ Opaque (codes "\t#c") ∷ Opaque (codes "$") ∷ Directive (codes "export privat define D") ∷ Header ((codes "foo") ∷ []) SingleColon [] ((codes "-include2") ∷ []) [] None ∷ Recipe [] ∷ Header ((codes "b") ∷ []) DoubleColon [] [] ((codes ".PHONY") ∷ (codes "foo") ∷ []) None ∷ []
row_random_153 = refl

row_random_154 : reading (codes "\t\\\nendif\r\n\t\r\n# x ; y : z = 1\r\n \r\nendif\r\n.PHONY: $$ b c\\\n#\\\\\\\n\n# \\") ≡ Opaque (codes "\t\\\nendif") ∷ Opaque (codes "\t") ∷ Opaque (codes "endif") ∷ Opaque (codes ".PHONY: $$ b c\\\n#\\\\\\\n") ∷ []
row_random_154 = refl

row_random_155 : reading (codes "ifeq (a,$(b\n#c \\\n d\r\n\t\r\nexport X\n override\t.REIPEPREFIX\\\n\t:::= $  1 ") ≡ If (codes "ifeq (a,$(b") ∷ Directive (codes "export X") ∷ Assign (Sets (Override ∷ []) (codes ".REIPEPREFIX") Immediate (codes "$  1")) ∷ []
row_random_155 = refl

row_random_156 : reading [] ≡ []
row_random_156 = refl

row_random_157 : reading (codes ">$(\r\n\tt: u\r\n\\\\\n&?$(define\ndefine\r\n\\\n\r\n.RECIPEPREFIX+=t\r\n") ≡ Opaque (codes ">$(") ∷ Opaque (codes "\tt: u") ∷ Opaque (codes "\\\\") ∷ Opaque (codes "&?$(define") ∷ DefineHead (codes "define") ∷ Body (codes "\\\n") ∷ Body (codes ".RECIPEPREFIX+=t") ∷ []
row_random_157 = refl

row_random_158 : reading (codes "endif # c\r\n# c\r\n") ≡ Opaque (codes "endif # c") ∷ []
row_random_158 = refl

row_random_159 : reading (codes ".RECIPEPREFIX = :\nY+=  \n\t#\0\n$(a b)\\\r\n$(p #) &: a&b x.o $(q:;=|) # c\nfoo: \n\ta \\\n\tb\n\tZ = 1\noverride  t1 += ; a\\:b# c\n") ≡ Assign (Sets [] (codes ".RECIPEPREFIX") Recursive (codes ":")) ∷ Assign (Sets [] (codes "Y") Append []) ∷ Header ((codes "$(a b)") ∷ (codes "$(p #)") ∷ []) GroupedColon [] ((codes "a&b") ∷ (codes "x.o") ∷ (codes "$(q:;=|)") ∷ []) [] None ∷ Header ((codes "foo") ∷ []) SingleColon [] [] [] None ∷ Opaque (codes "\ta \\\n\tb") ∷ Assign (Sets [] (codes "Z") Recursive (codes "1")) ∷ Assign (Sets (Override ∷ []) (codes "t1") Append (codes "; a\\:b")) ∷ []
row_random_159 = refl

row_random_160 : reading (codes ">\n\tdefine Q\n#define\n$\\{endef& ?\r\\;\\\n\nadefine Q\n") ≡ Opaque (codes ">") ∷ Opaque (codes "\tdefine Q") ∷ Opaque (codes "$\\{endef& ?\r\\;\\\n") ∷ Opaque (codes "adefine Q") ∷ []
row_random_160 = refl

row_random_161 : reading (codes ".RECIPEPREFIX = :\r\na \\\n$$ :\\\n\tifdef := \t #\0\r\n endif") ≡ Assign (Sets [] (codes ".RECIPEPREFIX") Recursive (codes ":")) ∷ Opaque (codes "a \\\n$$ :\\\n\tifdef := \t #\0") ∷ Opaque (codes " endif") ∷ []
row_random_161 = refl

row_random_162 : reading (codes "\\\n# \\\n$(s\\): $(s\\) ${c}\t|\n>ifdef\\\nB\nprivate\\\n\t\\\r\nexport .RECIPEPREFIX= a $(m \\\n n) #\\\\\n#c \\\n d\nifdef :::= = \nelse\n") ≡ Opaque (codes ">ifdef\\\nB") ∷ Assign (Sets (Private ∷ Export ∷ []) (codes ".RECIPEPREFIX") Recursive (codes "a $(m n)")) ∷ Assign (Sets [] (codes "ifdef") Immediate (codes "=")) ∷ Opaque (codes "else") ∷ []
row_random_162 = refl

row_random_163 : reading (codes ".RECIPEPREFIX = c\nA ?=  \nY=\\\\\\\\\n; \\\n  ") ≡ Assign (Sets [] (codes ".RECIPEPREFIX") Recursive (codes "c")) ∷ Assign (Sets [] (codes "A") Conditional []) ∷ Assign (Sets [] (codes "Y") Recursive (codes "\\\\\\\\")) ∷ Opaque (codes "; \\\n  ") ∷ []
row_random_163 = refl

row_random_164 : reading (codes "t&:: $(s\\) t \\\n \\\n ; \n") ≡ Header ((codes "t") ∷ []) GroupedDoubleColon [] ((codes "$(s\\)") ∷ (codes "t") ∷ []) [] (Some (codes " ")) ∷ []
row_random_164 = refl

row_random_165 : reading (codes ".RECIPEPREFIX  c\r\nendef ?= | \\\n  #c& \\\n d\r\nifdef A\r\n\\\n#\\\\\\\n\r\nCC \t:::= \\# \n\tendif\r\nelse ifdef Q\r\n# \r\r\nX$ !=\\\\ #\0\n+\\\n\t\n!=  #\r\n") ≡ Opaque (codes ".RECIPEPREFIX  c") ∷ Assign (Sets [] (codes "endef") Conditional (codes "|")) ∷ If (codes "ifdef A") ∷ Assign (Sets [] (codes "CC") Immediate (codes "\\#")) ∷ Endif (codes "\tendif") ∷ Opaque (codes "else ifdef Q") ∷ Opaque (codes "X$ !=\\\\ #\0") ∷ Opaque (codes "+\\\n\t") ∷ Opaque (codes "!=  #") ∷ []
row_random_165 = refl

row_random_166 : reading (codes "\\\n# c\noverride ::= \\\n \\\n \n>t1  ::=\n") ≡ Assign (Sets [] (codes "override") PosixSimple []) ∷ Assign (Sets [] (codes ">t1") PosixSimple []) ∷ []
row_random_166 = refl

row_random_167 : reading (codes " X$::=2 3\\\n#\0\n-x_9 :::=  -include2\t\r\nx.o y: $$ \t%.c\n\tendif\noverride define E # c\r\nifdef\\\nB\n$(q:;=|) \t&:${c} ${g(} a \nx.o y: a&b $(s\\)") ≡ Opaque (codes " X$::=2 3\\\n#\0") ∷ Assign (Sets [] (codes "-x_9") Immediate (codes "-include2")) ∷ Header ((codes "x.o") ∷ (codes "y") ∷ []) SingleColon [] ((codes "$$") ∷ (codes "%.c") ∷ []) [] None ∷ Recipe (codes "endif") ∷ DefineHead (codes "override define E # c") ∷ Body (codes "ifdef\\\nB") ∷ Body (codes "$(q:;=|) \t&:${c} ${g(} a ") ∷ Body (codes "x.o y: a&b $(s\\)") ∷ []
row_random_167 = refl

row_random_168 : reading [] ≡ []
row_random_168 = refl

row_random_169 : reading (codes "b : endef == $ \t\r\n$(q:;=|):  \\\r\n #\n\\\\\n=}$\r\n${}  x.o:  \nfoo: $(p #) a\n>endef\nelse\n &:private export \tY\\\n\t\\\r\n:::= $\r\n>y\r\nY := # \r\r\n") ≡ TargetAssign ((codes "b") ∷ []) SingleColon (Sets [] (codes "endef") Recursive (codes "= $ ")) ∷ Header ((codes "$(q:;=|)") ∷ []) SingleColon [] [] [] None ∷ Opaque (codes "\\\\") ∷ Opaque (codes "=}$") ∷ Header ((codes "${}") ∷ (codes "x.o") ∷ []) SingleColon [] [] [] None ∷ Header ((codes "foo") ∷ []) SingleColon [] ((codes "$(p #)") ∷ (codes "a") ∷ []) [] None ∷ Opaque (codes ">endef") ∷ Opaque (codes "else") ∷ Rough (codes " &:private export \tY\\\n\t\\\r\n:::= $") ∷ Opaque (codes ">y") ∷ Opaque (codes "Y := # \r") ∷ []
row_random_169 = refl

row_random_170 : reading (codes "+ )$|{{\r\n=\r\n$(s\\)::: \n\t$(\r\n\ta\\\r\n.RECIPEPREFIX =t\r\n\t\\\noverride != \\\n \\\n\r\n>$(\r\n") ≡ Opaque (codes "+ )$|{{") ∷ Opaque (codes "=") ∷ Rough (codes "$(s\\)::: ") ∷ Recipe (codes "$(") ∷ Recipe (codes "a\\\r\n.RECIPEPREFIX =t") ∷ Recipe (codes "\\\noverride != \\\n \\\n") ∷ Opaque (codes ">$(") ∷ []
row_random_170 = refl

row_random_171 : reading (codes ">\r\n>q \t?= $(p #) \r\\# #\0\r\n\r\na: $$\n\tifdef Z\nifneq\r\n") ≡ Opaque (codes ">") ∷ Opaque (codes ">q \t?= $(p #) \r\\# #\0") ∷ Header ((codes "a") ∷ []) SingleColon [] ((codes "$$") ∷ []) [] None ∷ Recipe (codes "ifdef Z") ∷ If (codes "ifneq") ∷ []
row_random_171 = refl

row_random_172 : reading (codes ".RECIPEPREFIX=\\\nt\n") ≡ Assign (Sets [] (codes ".RECIPEPREFIX") Recursive (codes "t")) ∷ []
row_random_172 = refl

row_random_173 : reading [] ≡ []
row_random_173 = refl

row_random_174 : reading (codes "\\\n$(definep #b\n\t\\\r\n%.o \t&:\t \n") ≡ Opaque (codes "\\\n$(definep #b") ∷ Opaque (codes "\t\\\r\n%.o \t&:\t ") ∷ []
row_random_174 = refl

row_random_175 : reading (codes ".RECIPEPREFIX = -\n>q ?=$({) 2 3 \t\n\t \noverride = \ta $# \ntendef") ≡ Assign (Sets [] (codes ".RECIPEPREFIX") Recursive (codes "-")) ∷ Assign (Sets [] (codes ">q") Conditional (codes "$({) 2 3")) ∷ Assign (Sets [] (codes "override") Recursive (codes "a $#")) ∷ Opaque (codes "tendef") ∷ []
row_random_175 = refl

row_random_176 : reading (codes "Y ::=  \n\t \n\tb: foo \t\r\nexport A\t:::=%.o$\\\r\nfoo \nifdef := c $\\\n\t\\\r\n$(q:;=|) \t#\n+ :X\r\n") ≡ Assign (Sets [] (codes "Y") PosixSimple []) ∷ Opaque (codes "\tb: foo \t") ∷ Assign (Sets (Export ∷ []) (codes "A") Immediate (codes "%.o$ foo")) ∷ Assign (Sets [] (codes "ifdef") Simple (codes "c $ $(q:;=|)")) ∷ Header ((codes "+") ∷ []) SingleColon [] ((codes "X") ∷ []) [] None ∷ []
row_random_176 = refl

row_random_177 : reading (codes " \\\n\t${c}: $(f {) ;\\\n\t\\\r\n$(m \\\n n) $x a\\\n\\\n\nifdef A\na -include2:: a\\=\\\n\t!= \\ \\\r\n #\\\\\\\n\nb ::\\\r\n$(s\\)\\\n\t\\\r\n\n#\\\\\nfoo\tb :: ifdef :::=\\\n\t\\\r\nfoo ${c}$x\na: x.o !\n# x ; y : z = 1\nX :=\\$x \\\n  a\\:b# c\n\t\\\n") ≡ Header ((codes "${c}") ∷ []) SingleColon [] ((codes "$(f {)") ∷ []) [] (Some (codes "\\\n\t\\\r\n$(m \\\n n) $x a\\\n\\\n")) ∷ If (codes "ifdef A") ∷ Opaque (codes "a -include2:: a\\=\\\n\t!= \\ \\\r\n #\\\\\\\n") ∷ Header ((codes "b") ∷ []) DoubleColon [] ((codes "$(s\\)") ∷ []) [] None ∷ TargetAssign ((codes "foo") ∷ (codes "b") ∷ []) DoubleColon (Sets [] (codes "ifdef") Immediate (codes "foo ${c}$x")) ∷ Header ((codes "a") ∷ []) SingleColon [] ((codes "x.o") ∷ (codes "!") ∷ []) [] None ∷ Assign (Sets [] (codes "X") Simple (codes "\\$x a\\:b")) ∷ Opaque (codes "\t\\") ∷ []
row_random_177 = refl

row_random_178 : reading (codes "\tendef\r\n.PHONY \ta: $(a b) $(a b) t # c\r\nendef x\r\n.PHONY $(q:;=|):$(a b)\n>$(\n\\\n\t\n>a\\\\\r\n-include2 : foo\\\r\n\r\n#c \\\n d\r\n# \r\r\n%.c::  | x.o \r\nfoo: \n\techo a # b\r\n") ≡ Opaque (codes "\tendef") ∷ Header ((codes ".PHONY") ∷ (codes "a") ∷ []) SingleColon [] ((codes "$(a b)") ∷ (codes "$(a b)") ∷ (codes "t") ∷ []) [] None ∷ Opaque (codes "endef x") ∷ Header ((codes ".PHONY") ∷ (codes "$(q:;=|)") ∷ []) SingleColon [] ((codes "$(a b)") ∷ []) [] None ∷ Opaque (codes ">$(") ∷ Opaque (codes ">a\\\\") ∷ Header ((codes "-include2") ∷ []) SingleColon [] ((codes "foo") ∷ []) [] None ∷ Header ((codes "%.c") ∷ []) DoubleColon [] [] ((codes "x.o") ∷ []) None ∷ Header ((codes "foo") ∷ []) SingleColon [] [] [] None ∷ Recipe (codes "echo a # b") ∷ []
row_random_178 = refl

row_random_179 : reading [] ≡ []
row_random_179 = refl

row_random_180 : reading (codes ">a\\\\\nendif\n$$ $(f {)&::%.c \\\n  $(q:;=|)\ta&b \\\n \\\n |   \ndefine : : \t \nX$ +\\\\\n= ${c} \nifdef::= t  \nifdef A\nx.o y: a&b\nt#c") ≡ Opaque (codes ">a\\\\") ∷ Opaque (codes "endif") ∷ Header ((codes "$$") ∷ (codes "$(f {)") ∷ []) GroupedDoubleColon [] ((codes "%.c") ∷ (codes "$(q:;=|)") ∷ (codes "a&b") ∷ []) [] None ∷ DefineHead (codes "define : : \t ") ∷ Body (codes "X$ +\\\\") ∷ Body (codes "= ${c} ") ∷ Body (codes "ifdef::= t  ") ∷ Body (codes "ifdef A") ∷ Body (codes "x.o y: a&b") ∷ Body (codes "t#c") ∷ []
row_random_180 = refl

row_random_181 : reading (codes "$(a b) $(q:;=|) &: t | $(a b)#\0\r\na: \n\nneq\n \r\n\tx.o ::: # c\r\n") ≡ Opaque (codes "$(a b) $(q:;=|) &: t | $(a b)#\0") ∷ Header ((codes "a") ∷ []) SingleColon [] [] [] None ∷ Opaque (codes "neq") ∷ Opaque (codes "\tx.o ::: # c") ∷ []
row_random_181 = refl

row_random_182 : reading (codes ">echo a # b\nelse ifdef Q\n") ≡ Opaque (codes ">echo a # b") ∷ Opaque (codes "else ifdef Q") ∷ []
row_random_182 = refl

row_random_183 : reading (codes " a&b  %.c :  \r\n\ta\\\\\r\n\ta \\\n\tb\r\n>q != $(w \\\n \r\n.RECIPEPREFIX += a\r\n\telse\r\nprivate private  X  :::= \\\r\n %.o \\\r\n $(q:;=|) \\\n  %.o \r\ndefine+= $x \r\n\\\n$(p #): #\0\r") ≡ Header ((codes "a&b") ∷ (codes "%.c") ∷ []) SingleColon [] [] [] None ∷ Recipe (codes "a\\\\") ∷ Recipe (codes "a \\\n\tb") ∷ Assign (Sets [] (codes ">q") Shell (codes "$(w ")) ∷ Assign (Sets [] (codes ".RECIPEPREFIX") Append (codes "a")) ∷ Opaque (codes "\telse") ∷ Assign (Sets (Private ∷ Private ∷ []) (codes "X") Immediate (codes "%.o $(q:;=|) %.o")) ∷ Assign (Sets [] (codes "define") Append (codes "$x")) ∷ Opaque (codes "\\\n$(p #): #\0\r") ∷ []
row_random_183 = refl

row_random_184 : reading (codes "aendif\n>override X\n#c \\\n d\nt\td|  :define +=  \n>define Q\n\ty\r\n") ≡ Opaque (codes "aendif") ∷ Opaque (codes ">override X") ∷ TargetAssign ((codes "t") ∷ (codes "d|") ∷ []) SingleColon (Sets [] (codes "define") Append []) ∷ Opaque (codes ">define Q") ∷ Opaque (codes "\ty") ∷ []
row_random_184 = refl

row_random_185 : reading (codes ".PHONY  c &| \\\n \\\n  \r\n\t# c\r\n") ≡ Opaque (codes ".PHONY  c &| \\\n \\\n  ") ∷ Opaque (codes "\t# c") ∷ []
row_random_185 = refl

row_random_186 : reading [] ≡ []
row_random_186 = refl

row_random_187 : reading (codes ".RECIPEPRFIX = .\n%.o \\\n \\\n :: x.o $x ;\\\r\n2 3 \n$(f {) |d : a\ndefine D\nfoo: \n \n.RECIPEPREFIX= \\\n; # x ; y : z = 1\na&b ${g(}&:: $(s\\) $= %.c |#\nfoo: $(s\\)\n\\\n# x ; y : z = 1\n>#c") ≡ Assign (Sets [] (codes ".RECIPEPRFIX") Recursive (codes ".")) ∷ Header ((codes "%.o") ∷ []) DoubleColon [] ((codes "x.o") ∷ (codes "$x") ∷ []) [] (Some (codes "\\\r\n2 3 ")) ∷ Rough (codes "$(f {) |d : a") ∷ DefineHead (codes "define D") ∷ Body (codes "foo: ") ∷ Body (codes " ") ∷ Body (codes ".RECIPEPREFIX= \\\n; # x ; y : z = 1") ∷ Body (codes "a&b ${g(}&:: $(s\\) $= %.c |#") ∷ Body (codes "foo: $(s\\)") ∷ Body (codes "\\\n# x ; y : z = 1") ∷ Body (codes ">#c") ∷ []
row_random_187 = refl

row_random_188 : reading (codes ".RECIPEPREFIX =\\\ne\n$x :  foo %.o \n\ta\\\r\n>b\nb\t$\\\n-include2: ${c} c $(a b) \t\na: \n \\\n\n\t\\\n\nX::=$(f {)\n$(s\\) ${c}:\tt foo ;\\\r\n:\t# \\") ≡ Assign (Sets [] (codes ".RECIPEPREFIX") Recursive (codes "e")) ∷ Header ((codes "$x") ∷ []) SingleColon [] ((codes "foo") ∷ (codes "%.o") ∷ []) [] None ∷ Opaque (codes "\ta\\\r\n>b") ∷ Rough (codes "b\t$\\\n-include2: ${c} c $(a b) \t") ∷ Header ((codes "a") ∷ []) SingleColon [] [] [] None ∷ Assign (Sets [] (codes "X") PosixSimple (codes "$(f {)")) ∷ Header ((codes "$(s\\)") ∷ (codes "${c}") ∷ []) SingleColon [] ((codes "t") ∷ (codes "foo") ∷ []) [] (Some (codes "\\\r\n:\t# \\")) ∷ []
row_random_188 = refl

row_random_189 : reading [] ≡ []
row_random_189 = refl

row_random_190 : reading (codes ".PHONY :::$$ \nelse ifdef Q\n\ty\r\n\\\n# \r\r\n") ≡ Rough (codes ".PHONY :::$$ ") ∷ Opaque (codes "else ifdef Q") ∷ Opaque (codes "\ty") ∷ []
row_random_190 = refl

row_random_191 : reading (codes "foo :\\\n\t-include2 $x \r\nc&: foo ${c}\ta&b \nb ::: # \r\nA\\\n\t\\\r\n!=\t  \nb;}{$\r\nexport -x_9 :=\\\n \r\n") ≡ Header ((codes "foo") ∷ []) SingleColon [] ((codes "-include2") ∷ (codes "$x") ∷ []) [] None ∷ Header ((codes "c") ∷ []) GroupedColon [] ((codes "foo") ∷ (codes "${c}") ∷ (codes "a&b") ∷ []) [] None ∷ Rough (codes "b ::: # ") ∷ Assign (Sets [] (codes "A") Shell []) ∷ Opaque (codes "b;}{$") ∷ Assign (Sets (Export ∷ []) (codes "-x_9") Simple []) ∷ []
row_random_191 = refl

row_random_192 : reading (codes "#\r\n\tt \\\r\n $(q:;=|) &: + ::= = \n>\\\n>\0\nundefine X\n \\\r\n : X:::= \n>q :::=\t%.o\\\n\\\n") ≡ Opaque (codes "\tt \\\r\n $(q:;=|) &: + ::= = ") ∷ Opaque (codes ">\\\n>\0") ∷ Directive (codes "undefine X") ∷ TargetAssign [] SingleColon (Sets [] (codes "X") Immediate []) ∷ Assign (Sets [] (codes ">q") Immediate (codes "%.o \\")) ∷ []
row_random_192 = refl

row_random_193 : reading (codes ".RECIPEPREIX = >\r\n") ≡ Assign (Sets [] (codes ".RECIPEPREIX") Recursive (codes ">")) ∷ []
row_random_193 = refl

row_random_194 : reading [] ≡ []
row_random_194 = refl

row_random_195 : reading (codes "\r\n \\\n\toverride override  ::=  \r\n\t\\\n$(s\\): : a | $$# \r\r\n") ≡ Assign (Sets (Override ∷ []) (codes "override") PosixSimple []) ∷ Opaque (codes "\t\\\n$(s\\): : a | $$# \r") ∷ []
row_random_195 = refl

row_random_196 : reading (codes "$(p #)&: Y ::= \nx.o %.o: >q :::=  #\0") ≡ Rough (codes "$(p #)&: Y ::= ") ∷ Opaque (codes "x.o %.o: >q :::=  #\0") ∷ []
row_random_196 = refl

row_random_197 : reading (codes "$(a b) $(s\\): $$ -include2 ${g(} # \\\n$$:\t$(a b):\\\na&b \tc \t| a %.o \t#\\\\\\\n") ≡ Header ((codes "$(a b)") ∷ (codes "$(s\\)") ∷ []) SingleColon [] ((codes "$$") ∷ (codes "-include2") ∷ (codes "${g(}") ∷ []) [] None ∷ []
row_random_197 = refl

row_random_198 : reading (codes "endef#c\r\n \\\n\tendef ::= \\\\\t\\ \r\n\ty\r\n\t%.o: : -include2  $(s\\) a&b \nvpath %.c a\n \\\n\t$(a b): -include2: \\\n  .PHONY\\\r\n| #\n\ty\r\r\nifdef  := ${u\r\n") ≡ Opaque (codes "endef#c") ∷ Assign (Sets [] (codes "endef") PosixSimple (codes "\\\\\t\\ ")) ∷ Opaque (codes "\ty") ∷ Opaque (codes "\t%.o: : -include2  $(s\\) a&b ") ∷ Directive (codes "vpath %.c a") ∷ Header ((codes "$(a b)") ∷ []) SingleColon ((codes "-include2") ∷ []) ((codes ".PHONY") ∷ []) [] None ∷ Recipe (codes "y\r") ∷ Assign (Sets [] (codes "ifdef") Simple (codes "${u")) ∷ []
row_random_198 = refl

row_random_199 : reading (codes ".RECIPEPRF = >\\") ≡ Assign (Sets [] (codes ".RECIPEPRF") Recursive (codes ">\\")) ∷ []
row_random_199 = refl

row_random_200 : reading (codes "$$ $(q:;=|) &:$$ :  |$(s\\)\\\n\\\n\nCC += ${g(} a&b #\r\nX\t\r{}b\\\\\n\\>}:\\\\\n\nendef x\r\n>ifeq (a,$(b\r\na:c %.o ${g(}\\\r\n|\\ \\\n%.o ") ≡ Rough (codes "$$ $(q:;=|) &:$$ :  |$(s\\)\\\n\\\n") ∷ Assign (Sets [] (codes "CC") Append (codes "${g(} a&b")) ∷ Opaque (codes "X\t\r{}b\\\\") ∷ Rough (codes "\\>}:\\\\") ∷ Opaque (codes "endef x") ∷ Opaque (codes ">ifeq (a,$(b") ∷ Opaque (codes "a:c %.o ${g(}\\\r\n|\\ \\\n%.o ") ∷ []
row_random_200 = refl

row_random_201 : reading (codes ".RECIPEPREFIX = Y\n\telse\nx.o y: \n \\\n\tX!=   \na :\\\n\t%.o\\\n%.o  $(s\\) | $(f {) \n(\na \\\nendef#b::b!\n.else\nA +=\\\n\\\n$x 1\n%.o :foo |  \n>echo a # b\n") ≡ Assign (Sets [] (codes ".RECIPEPREFIX") Recursive (codes "Y")) ∷ Opaque (codes "\telse") ∷ Header ((codes "x.o") ∷ (codes "y") ∷ []) SingleColon [] [] [] None ∷ Assign (Sets [] (codes "X") Shell []) ∷ Header ((codes "a") ∷ []) SingleColon [] ((codes "%.o") ∷ (codes "%.o") ∷ (codes "$(s\\)") ∷ []) ((codes "$(f {)") ∷ []) None ∷ Opaque (codes "(") ∷ Opaque (codes "a \\\nendef#b::b!") ∷ Opaque (codes ".else") ∷ Assign (Sets [] (codes "A") Append (codes "$x 1")) ∷ Header ((codes "%.o") ∷ []) SingleColon [] ((codes "foo") ∷ []) [] None ∷ Opaque (codes ">echo a # b") ∷ []
row_random_201 = refl

row_random_202 : reading (codes "endif\n-x_9\\\n\\\n?= \nb :: c | foo b \n\tZ = 1\n") ≡ Opaque (codes "endif") ∷ Assign (Sets [] (codes "-x_9") Conditional []) ∷ Header ((codes "b") ∷ []) DoubleColon [] ((codes "c") ∷ []) ((codes "foo") ∷ (codes "b") ∷ []) None ∷ Recipe (codes "Z = 1") ∷ []
row_random_202 = refl

row_random_203 : reading [] ≡ []
row_random_203 = refl

row_random_204 : reading (codes " -x_9 ::=\\\n\\\nx.o$(s\\) \\##\\\\\nifeq (a,$(b\noverride  ifdef ::=   # \\\n$(=:;=|) &: \\\n  \n>y\r\n\tifdef Z\n") ≡ Assign (Sets [] (codes "-x_9") PosixSimple (codes "x.o$(s\\) \\#")) ∷ If (codes "ifeq (a,$(b") ∷ Assign (Sets (Override ∷ []) (codes "ifdef") PosixSimple []) ∷ Opaque (codes ">y") ∷ Opaque (codes "\tifdef Z") ∷ []
row_random_204 = refl

row_random_205 : reading (codes ".RECIPEPREFIX = i{\n-x_9 = c $(q:;=|) \t#c \\\n d\r\n") ≡ Assign (Sets [] (codes ".RECIPEPREFIX") Recursive (codes "i{")) ∷ Assign (Sets [] (codes "-x_9") Recursive (codes "c $(q:;=|)")) ∷ []
row_random_205 = refl

row_random_206 : reading (codes "endef\n.ifdef Z\nx.o y: .PHONY\n\t\\\nendef # c\n$(q:;=|):\t# \\\n> \nelse ifdef Q\n%.c &:: $$\tfoo \n") ≡ Opaque (codes "endef") ∷ Opaque (codes ".ifdef Z") ∷ Header ((codes "x.o") ∷ (codes "y") ∷ []) SingleColon [] ((codes ".PHONY") ∷ []) [] None ∷ Recipe (codes "\\\nendef # c") ∷ Header ((codes "$(q:;=|)") ∷ []) SingleColon [] [] [] None ∷ Opaque (codes "else ifdef Q") ∷ Header ((codes "%.c") ∷ []) GroupedDoubleColon [] ((codes "$$") ∷ (codes "foo") ∷ []) [] None ∷ []
row_random_206 = refl

row_random_207 : reading [] ≡ []
row_random_207 = refl

row_random_208 : reading (codes "endif # c\n\tendef # c\n#c \\\n d\noverride >q\t=\0\ta&b # x ; y : z = 1\ndefine +=  \\\n \\\n \n\n.else\nexport \tY=\t") ≡ Opaque (codes "endif # c") ∷ Opaque (codes "\tendef # c") ∷ Opaque (codes "override >q\t=\0\ta&b # x ; y : z = 1") ∷ Assign (Sets [] (codes "define") Append []) ∷ Opaque (codes ".else") ∷ Assign (Sets (Export ∷ []) (codes "Y") Recursive []) ∷ []
row_random_208 = refl

row_random_209 : reading (codes ">X \\\r:::= \nY\\\n\t:::=  \\\n  \n") ≡ Opaque (codes ">X \\\r:::= ") ∷ Assign (Sets [] (codes "Y") Immediate []) ∷ []
row_random_209 = refl

row_random_210 : reading (codes ". \nt1 :=x.o  $# \n\\\n-x_9 \\\n  :::=a\\  # \r\n\tZ = 1\nadefine Q\n\t\nfoo :$(p #) $(f {) |-include2\\\n\\\n$$ ;  \\\n \\\n \nifdef !=c\r\nA \t= $(q:;=|) \r\n") ≡ Opaque (codes ". ") ∷ Assign (Sets [] (codes "t1") Simple (codes "x.o  $#")) ∷ Assign (Sets [] (codes "-x_9") Immediate (codes "a\\ ")) ∷ Assign (Sets [] (codes "Z") Recursive (codes "1")) ∷ Opaque (codes "adefine Q") ∷ Opaque (codes "\t") ∷ Rough (codes "foo :$(p #) $(f {) |-include2\\\n\\\n$$ ;  \\\n \\\n ") ∷ Assign (Sets [] (codes "ifdef") Shell (codes "c")) ∷ Assign (Sets [] (codes "A") Recursive (codes "$(q:;=|)")) ∷ []
row_random_210 = refl

row_random_211 : reading (codes "foo: c\n\t \n\tendef\n\r\n>\r\noverride X::= t \\\n \\\n \n)\\\n\0a(\\\n\n$(s\\) : : ${g(}  $(a b) $x; %.c \n.RECIPEPREFIX::=:\nX+define}:{$#+\r\n;\n$$ \tfoo :: endef ?=$(a b) #\\\\\\\n") ≡ Header ((codes "foo") ∷ []) SingleColon [] ((codes "c") ∷ []) [] None ∷ Recipe (codes " ") ∷ Recipe (codes "endef") ∷ Opaque (codes ">") ∷ Assign (Sets (Override ∷ []) (codes "X") PosixSimple (codes "t")) ∷ Opaque (codes ")\\\n\0a(\\\n") ∷ Rough (codes "$(s\\) : : ${g(}  $(a b) $x; %.c ") ∷ Assign (Sets [] (codes ".RECIPEPREFIX") PosixSimple (codes ":")) ∷ Header ((codes "X+define}") ∷ []) SingleColon [] ((codes "{$#+") ∷ []) [] None ∷ Opaque (codes ";") ∷ TargetAssign ((codes "$$") ∷ (codes "foo") ∷ []) DoubleColon (Sets [] (codes "endef") Conditional (codes "$(a b)")) ∷ []
row_random_211 = refl

row_random_212 : reading (codes "private \\\n \\\n export \tendef+=\\\n\\\n #\0\nfoo: $x\n\\\n\t\n\t#c\n") ≡ Opaque (codes "private \\\n \\\n export \tendef+=\\\n\\\n #\0") ∷ Header ((codes "foo") ∷ []) SingleColon [] ((codes "$x") ∷ []) [] None ∷ Recipe (codes "#c") ∷ []
row_random_212 = refl

row_random_213 : reading (codes " \\\n\tprivate  >q !=  \n$(f {): $$ : c  $x\\\n\t\\\r\n\n-include2 : .PHONY\\\na  $(s\\)\nfoo:x.o: \nifeq (a,$(b\nendef=\\\\\nb#:::\\\\}\\") ≡ Assign (Sets (Private ∷ []) (codes ">q") Shell []) ∷ Header ((codes "$(f {)") ∷ []) SingleColon ((codes "$$") ∷ []) ((codes "c") ∷ (codes "$x") ∷ []) [] None ∷ Header ((codes "-include2") ∷ []) SingleColon [] ((codes ".PHONY") ∷ (codes "a") ∷ (codes "$(s\\)") ∷ []) [] None ∷ Header ((codes "foo") ∷ []) SingleColon ((codes "x.o") ∷ []) [] [] None ∷ If (codes "ifeq (a,$(b") ∷ Assign (Sets [] (codes "endef") Recursive (codes "\\\\")) ∷ Opaque (codes "b#:::\\\\}\\") ∷ []
row_random_213 = refl

row_random_214 : reading (codes "t: c c -include2\\\n\t\\\r\n\r\nifneq\r\ndefine F \\\n\n\t: \\\na.b :::= \t # c\r\n\ta\\\r\n>b\r\na.b::= \\\na&b\r\n X$: := # \r\n\tendef\r\n>a\\\\") ≡ Header ((codes "t") ∷ []) SingleColon [] ((codes "c") ∷ (codes "c") ∷ (codes "-include2") ∷ []) [] None ∷ If (codes "ifneq") ∷ DefineHead (codes "define F \\\n") ∷ Body (codes "\t: \\\na.b :::= \t # c") ∷ Body (codes "\ta\\\r\n>b") ∷ Body (codes "a.b::= \\\na&b") ∷ Body (codes " X$: := # ") ∷ Body (codes "\tendef") ∷ Body (codes ">a\\\\") ∷ []
row_random_214 = refl

row_random_215 : reading (codes "CC=$\\\n  \0 \r\nt: \\\r\n a&b: ${g(} -include2 \r\n") ≡ Opaque (codes "CC=$\\\n  \0 ") ∷ Header ((codes "t") ∷ []) SingleColon ((codes "a&b") ∷ []) ((codes "${g(}") ∷ (codes "-include2") ∷ []) [] None ∷ []
row_random_215 = refl

row_random_216 : reading (codes "a.b \\\n \\\n ?= $(  #\\\\\\\n\r\n# c\r\nelse\r\n") ≡ Opaque (codes "a.b \\\n \\\n ?= $(  #\\\\\\\n") ∷ Opaque (codes "else") ∷ []
row_random_216 = refl

row_random_217 : reading (codes "elsifdef Q\r\n\\{}:+\r\noverride CC \\\r\n ?=%.o x  y \\\n$$\r\n%.c\t$x\\\n\t::: \ta  $$ a&b\t\r\nfoo::: >include2\t:\\\n\\\n\ta b)  %.o $(p #) |#c \\\n d\r\n.PHONY ${g(}:  \\\n\r\n") ≡ Opaque (codes "elsifdef Q") ∷ Rough (codes "\\{}:+") ∷ Assign (Sets (Override ∷ []) (codes "CC") Conditional (codes "%.o x  y $$")) ∷ Rough (codes "%.c\t$x\\\n\t::: \ta  $$ a&b\t") ∷ Rough (codes "foo::: >include2\t:\\\n\\\n\ta b)  %.o $(p #) |#c \\\n d") ∷ Header ((codes ".PHONY") ∷ (codes "${g(}") ∷ []) SingleColon [] [] [] None ∷ []
row_random_217 = refl

row_random_218 : reading (codes "\ta &: |\\\n\t\\\r\nc \r\noverride override \\\n  X$:+= %.c\\\n\t\\\r\n#\\\\\r\n\t#\r\n\t\\\na&b&: \tb\\ \\\n: foo $(f {)\\\n\tx.o\\\n\\\n#\n# ") ≡ Opaque (codes "\ta &: |\\\n\t\\\r\nc ") ∷ Assign (Sets (Override ∷ Override ∷ []) (codes "X$:") Append (codes "%.c")) ∷ Opaque (codes "\t\\\na&b&: \tb\\ \\\n: foo $(f {)\\\n\tx.o\\\n\\\n#") ∷ []
row_random_218 = refl

row_random_219 : reading (codes "\t\\\na\t%.c :\t$(+f {) foo \\\n  # \r\n\telse\n%.c &::$(q:=|) \t$$  a&b# c\n\n\nf\\\\\noo: \n # }x ; y : z = 1\n. \n.\\\n\n\tx\n\tifdef Z\n") ≡ Opaque (codes "\t\\\na\t%.c :\t$(+f {) foo \\\n  # ") ∷ Opaque (codes "\telse") ∷ Header ((codes "%.c") ∷ []) GroupedDoubleColon [] ((codes "$(q:=|)") ∷ (codes "$$") ∷ (codes "a&b") ∷ []) [] None ∷ Opaque (codes "f\\\\") ∷ Header ((codes "oo") ∷ []) SingleColon [] [] [] None ∷ Opaque (codes ". ") ∷ Opaque (codes ".\\\n") ∷ Opaque (codes "\tx") ∷ Opaque (codes "\tifdef Z") ∷ []
row_random_219 = refl

row_random_220 : reading (codes "?\t\\\n") ≡ Opaque (codes "?\t\\") ∷ []
row_random_220 = refl

row_random_221 : reading [] ≡ []
row_random_221 = refl

row_random_222 : reading (codes " t1 ?= $(s\\)  # x ; y : z = 1\r\nc  $$: \tA +=$(m \\\n n)\\\n%.c\r\nifdef!= x  y\\\n\\\n# \\\r\n") ≡ Assign (Sets [] (codes "t1") Conditional (codes "$(s\\)")) ∷ TargetAssign ((codes "c") ∷ (codes "$$") ∷ []) SingleColon (Sets [] (codes "A") Append (codes "$(m n) %.c")) ∷ Assign (Sets [] (codes "ifdef") Shell (codes "x  y")) ∷ []
row_random_222 = refl

row_random_223 : reading (codes ".RECIPEPREFIX = %\na&b \t$$:  \\\n \\\n \na.b\\\n!=\n+ != ${u 1 \\\n \\\n \ndefine F \\\n\nelse\n") ≡ Assign (Sets [] (codes ".RECIPEPREFIX") Recursive (codes "%")) ∷ Header ((codes "a&b") ∷ (codes "$$") ∷ []) SingleColon [] [] [] None ∷ Assign (Sets [] (codes "a.b") Shell []) ∷ Assign (Sets [] (codes "+") Shell (codes "${u 1 ")) ∷ DefineHead (codes "define F \\\n") ∷ Body (codes "else") ∷ []
row_random_223 = refl

row_random_224 : reading (codes "vpath %.c a\n\\\n\\\n::-x_9\\\n\t\\\r\n=  ") ≡ Directive (codes "vpath %.c a") ∷ TargetAssign [] DoubleColon (Sets [] (codes "-x_9") Recursive []) ∷ []
row_random_224 = refl

row_random_225 : reading (codes "\ta\\\noverride undefine X\na: $$\t%.c\n>a\\\r\ne#c\r\n%.o ::: $(p #)\\\n\\\n${g(}\r\n") ≡ Opaque (codes "\ta\\\noverride undefine X") ∷ Header ((codes "a") ∷ []) SingleColon [] ((codes "$$") ∷ (codes "%.c") ∷ []) [] None ∷ Opaque (codes ">a\\\r\ne#c") ∷ Rough (codes "%.o ::: $(p #)\\\n\\\n${g(}") ∷ []
row_random_225 = refl

row_random_226 : reading (codes "-include2:%.o :  x.o  $(f {) $(s\\)\\\n\t\\\r\n\nfoo: t a\naa \\\n\tb\nb \\\r\n : $x : ${c} %.o \tfoo\\\n; \\\n \\\n  #\\\\\n\t \n$\t\\\n\t&: -include2\\\r\na&b $x \n") ≡ Header ((codes "-include2") ∷ []) SingleColon ((codes "%.o") ∷ []) ((codes "x.o") ∷ (codes "$(f {)") ∷ (codes "$(s\\)") ∷ []) [] None ∷ Header ((codes "foo") ∷ []) SingleColon [] ((codes "t") ∷ (codes "a") ∷ []) [] None ∷ Opaque (codes "aa \\\n\tb") ∷ Header ((codes "b") ∷ []) SingleColon ((codes "$x") ∷ []) ((codes "${c}") ∷ (codes "%.o") ∷ (codes "foo") ∷ []) [] (Some (codes " \\\n \\\n  #\\\\")) ∷ Recipe (codes " ") ∷ Rough (codes "$\t\\\n\t&: -include2\\\r\na&b $x ") ∷ []
row_random_226 = refl

row_random_227 : reading (codes "\\\n# x ; y : z = 1\n\\#  $x :Y \t?= %.c\\\\ #\\\\\n\tx\n${g(} :$(q:;=|)  # c\n>y\r\ndefine ?= \\\n: \na: $(f {) t\n\t#c \\\n d\nea\\\\") ≡ TargetAssign ((codes "\\#") ∷ (codes "$x") ∷ []) SingleColon (Sets [] (codes "Y") Conditional (codes "%.c\\\\")) ∷ Opaque (codes "\tx") ∷ Header ((codes "${g(}") ∷ []) SingleColon [] ((codes "$(q:;=|)") ∷ []) [] None ∷ Opaque (codes ">y") ∷ Assign (Sets [] (codes "define") Conditional (codes ":")) ∷ Header ((codes "a") ∷ []) SingleColon [] ((codes "$(f {)") ∷ (codes "t") ∷ []) [] None ∷ Recipe (codes "#c \\\n d") ∷ Opaque (codes "ea\\\\") ∷ []
row_random_227 = refl

row_random_228 : reading (codes "(b)+\0\r\n$(s\\): :${g(}# \r\r\n# x =; ;y : z = 1\rq != \n\t\r\n") ≡ Opaque (codes "(b)+\0") ∷ Opaque (codes "$(s\\): :${g(}# \r") ∷ Opaque (codes "\t") ∷ []
row_random_228 = refl

row_random_229 : reading (codes ">ifdef Z\n\techo a # b\n.RECIPEPREFIX=t\n\\\n)}\\\n\r\n>\\\n\n\ta \\\n\tb\n$(X)?= \n") ≡ Opaque (codes ">ifdef Z") ∷ Opaque (codes "\techo a # b") ∷ Assign (Sets [] (codes ".RECIPEPREFIX") Recursive (codes "t")) ∷ Opaque (codes "\\\n)}\\\n") ∷ Opaque (codes ">\\\n") ∷ Opaque (codes "\ta \\\n\tb") ∷ Assign (Sets [] (codes "$(X)") Conditional []) ∷ []
row_random_229 = refl

row_random_230 : reading (codes "endef :=1 #\0\r\n \r\n$$\n \n}:\\\n\r\\\n\\\n\0\nifdef\\\n\t?= \n") ≡ Opaque (codes "endef :=1 #\0") ∷ Opaque (codes "$$") ∷ Opaque (codes "}:\\\n\r\\\n\\\n\0") ∷ Assign (Sets [] (codes "ifdef") Conditional []) ∷ []
row_random_230 = refl

row_random_231 : reading (codes "\ty\r\r\na: $(p #\\\n \\\n x.o\n#\0\r\noverride -x_9 += ") ≡ Opaque (codes "\ty\r") ∷ Rough (codes "a: $(p #\\\n \\\n x.o") ∷ Assign (Sets (Override ∷ []) (codes "-x_9") Append []) ∷ []
row_random_231 = refl

row_random_232 : reading (codes " :override ::= $(\\\n\\\n#\n\t\nifdef A\n\tendef\nendef\\\n\noverride private \\\nY?=\\\n\\\n\\\n\\\n\nCC::=\\\r\nc # c\ndefine ?= \\\n-include2\nendef\\\n") ≡ TargetAssign [] SingleColon (Sets [] (codes "override") PosixSimple (codes "$( #")) ∷ If (codes "ifdef A") ∷ Opaque (codes "\tendef") ∷ Opaque (codes "endef\\\n") ∷ Assign (Sets (Override ∷ Private ∷ []) (codes "Y") Conditional []) ∷ Assign (Sets [] (codes "CC") PosixSimple (codes "c")) ∷ Assign (Sets [] (codes "define") Conditional (codes "-include2")) ∷ Opaque (codes "endef\\") ∷ []
row_random_232 = refl

row_random_233 : reading (codes "\tifdef Z\nX::=x  y ${c} #\n \n %.c: :t b \\\n \\\n \n") ≡ If (codes "\tifdef Z") ∷ Assign (Sets [] (codes "X") PosixSimple (codes "x  y ${c}")) ∷ Rough (codes " %.c: :t b \\\n \\\n ") ∷ []
row_random_233 = refl

row_random_234 : reading (codes "x.o y: $$\n>t: u\r\n-x_9 !=${c}\r\n# x ; y : z = 1\n.RECIEPREFIX = X\nfoo: $(q:;=|)\t\\\n$(p #)\n\tifdef Z\n\ty\r\nex\n-x_9 += $\\\n = \n") ≡ Header ((codes "x.o") ∷ (codes "y") ∷ []) SingleColon [] ((codes "$$") ∷ []) [] None ∷ Header ((codes ">t") ∷ []) SingleColon [] ((codes "u") ∷ []) [] None ∷ Assign (Sets [] (codes "-x_9") Shell (codes "${c}")) ∷ Assign (Sets [] (codes ".RECIEPREFIX") Recursive (codes "X")) ∷ Header ((codes "foo") ∷ []) SingleColon [] ((codes "$(q:;=|)") ∷ (codes "$(p #)") ∷ []) [] None ∷ Recipe (codes "ifdef Z") ∷ Recipe (codes "y") ∷ Opaque (codes "ex") ∷ Assign (Sets [] (codes "-x_9") Append (codes "$ =")) ∷ []
row_random_234 = refl

row_random_235 : reading (codes ":feq (a,$(b") ≡ Rough (codes ":feq (a,$(b") ∷ []
row_random_235 = refl

row_random_236 : reading (codes ">${v:: override\t+= t\n #c \\\n d\n") ≡ Opaque (codes ">${v:: override\t+= t") ∷ []
row_random_236 = refl

row_random_237 : reading (codes "X!=.PHO#Y \t#\\\\\r\n$(q:;=|): \ta\t${c}\\\r\nfoo|${g(}\t$x# x ; y : z = 1\nexport  -x_9 \\\r\n =${c} \t# \r\r\nfoo: -include2 \t$$\n\ty\r\n# \r\r\n\r\nx.o y: \n.Z = 1\nifndef X # c\n") ≡ Assign (Sets [] (codes "X") Shell (codes ".PHO")) ∷ Rough (codes "$(q:;=|): \ta\t${c}\\\r\nfoo|${g(}\t$x# x ; y : z = 1") ∷ Opaque (codes "export  -x_9 \\\r\n =${c} \t# \r") ∷ Header ((codes "foo") ∷ []) SingleColon [] ((codes "-include2") ∷ (codes "$$") ∷ []) [] None ∷ Recipe (codes "y") ∷ Header ((codes "x.o") ∷ (codes "y") ∷ []) SingleColon [] [] [] None ∷ Assign (Sets [] (codes ".Z") Recursive (codes "1")) ∷ If (codes "ifndef X # c") ∷ []
row_random_237 = refl

row_random_238 : reading (codes " \\\n\t$(q:;=|):|:$x \\\r\n \n\tx\n ::\\#x\\\n\\\n?=\t${g(} \\\n  $(p #) a\\:b# \r\n\telse\n>x\nifndef X # c\n \\\n\nY:::=  \n") ≡ Rough (codes " \\\n\t$(q:;=|):|:$x \\\r\n ") ∷ Recipe (codes "x") ∷ TargetAssign [] DoubleColon (Sets [] (codes "\\#x") Conditional (codes "${g(} $(p #) a\\:b")) ∷ Opaque (codes "\telse") ∷ Opaque (codes ">x") ∷ If (codes "ifndef X # c") ∷ Assign (Sets [] (codes "Y") Immediate []) ∷ []
row_random_238 = refl

row_random_239 : reading (codes ".RECIPEPREFIX = %\r\n$(s\\)\t$x&: $$ \r\noverride\t>q +=  \r\n\t \r\nc :  \n\ta\\\\\r\n\toverride CC ::= | # \\\r\nx.o y: ${c}\n\t#c\n\t#\0\n\t \r\n>override != ${g(} \r\nx.o\t.PHONY \\\n \\\n : \\\r\n override\\\r\nt1 :::= a\\ \\\r\n\r\n") ≡ Assign (Sets [] (codes ".RECIPEPREFIX") Recursive (codes "%")) ∷ Header ((codes "$(s\\)") ∷ (codes "$x") ∷ []) GroupedColon [] ((codes "$$") ∷ []) [] None ∷ Assign (Sets (Override ∷ []) (codes ">q") Append []) ∷ Header ((codes "c") ∷ []) SingleColon [] [] [] None ∷ Opaque (codes "\ta\\\\") ∷ Assign (Sets (Override ∷ []) (codes "CC") PosixSimple (codes "|")) ∷ Assign (Sets [] (codes ">override") Shell (codes "${g(}")) ∷ Opaque (codes "x.o\t.PHONY \\\n \\\n : \\\r\n override\\\r\nt1 :::= a\\ \\\r\n") ∷ []
row_random_239 = refl

row_random_240 : reading (codes "endif # c\n$(q:;=|): \t$$\ta t| b \nx.o y: b \t${g(}\n#c \\\n d\n\tendef\n>$(\nifdef\\\nB\n\\\n\t\nifdef A\nendif # c\n${c} : ${g(#} :  \n\ta \\\n\tb") ≡ Opaque (codes "endif # c") ∷ Rough (codes "$(q:;=|): \t$$\ta t| b ") ∷ Header ((codes "x.o") ∷ (codes "y") ∷ []) SingleColon [] ((codes "b") ∷ (codes "${g(}") ∷ []) [] None ∷ Recipe (codes "endef") ∷ Opaque (codes ">$(") ∷ If (codes "ifdef\\\nB") ∷ If (codes "ifdef A") ∷ Endif (codes "endif # c") ∷ Header ((codes "${c}") ∷ []) SingleColon ((codes "${g(#}") ∷ []) [] [] None ∷ Recipe (codes "a \\\n\tb") ∷ []
row_random_240 = refl

row_random_241 : reading (codes ".PHONY &:\\\n\t.PHONY | $(p #) b; \t \r\nfoo: ${c}  %.c\n\ta\\\r\n>b\r\nA+= %.c a\\:b #\r\nifdef \\\r\n ::=  \r\noverride X  != $$ #\\\\\\\n\r\n") ≡ Header ((codes ".PHONY") ∷ []) GroupedColon [] ((codes ".PHONY") ∷ []) ((codes "$(p #)") ∷ (codes "b") ∷ []) (Some (codes " \t ")) ∷ Header ((codes "foo") ∷ []) SingleColon [] ((codes "${c}") ∷ (codes "%.c") ∷ []) [] None ∷ Recipe (codes "a\\\r\n>b") ∷ Assign (Sets [] (codes "A") Append (codes "%.c a\\:b")) ∷ Assign (Sets [] (codes "ifdef") PosixSimple []) ∷ Opaque (codes "override X  != $$ #\\\\\\\n") ∷ []
row_random_241 = refl

row_random_242 : reading (codes " \n .PHONY:.PHONY \\\n-include2 a&b") ≡ Header ((codes ".PHONY") ∷ []) SingleColon [] ((codes ".PHONY") ∷ (codes "-include2") ∷ (codes "a&b") ∷ []) [] None ∷ []
row_random_242 = refl

row_random_243 : reading (codes ".RECIPEPREFIX = %\n-x_9!= \\$x $(a b)\\# \n") ≡ Assign (Sets [] (codes ".RECIPEPREFIX") Recursive (codes "%")) ∷ Assign (Sets [] (codes "-x_9") Shell (codes "\\$x $(a b)\\#")) ∷ []
row_random_243 = refl

row_random_244 : reading (codes " A ::=   \nx.o y: .PHONY\n\t\n\tx\n\ta \\\n\tb\nendef#c") ≡ Assign (Sets [] (codes "A") PosixSimple []) ∷ Header ((codes "x.o") ∷ (codes "y") ∷ []) SingleColon [] ((codes ".PHONY") ∷ []) [] None ∷ Recipe [] ∷ Recipe (codes "x") ∷ Recipe (codes "a \\\n\tb") ∷ Opaque (codes "endef#c") ∷ []
row_random_244 = refl

row_random_245 : reading (codes "\t$(f {) &: $x %.o ; c \\\n \\\n #c \\\n d\ndefine = \r \n Y:=${c} \0 \n\t\\\nc:t:\tt#\0\n") ≡ Opaque (codes "\t$(f {) &: $x %.o ; c \\\n \\\n #c \\\n d") ∷ Opaque (codes "define = \r ") ∷ Opaque (codes " Y:=${c} \0 ") ∷ Opaque (codes "\t\\\nc:t:\tt#\0") ∷ []
row_random_245 = refl

row_random_246 : reading (codes ".RECIPEPREFIX = t#\\") ≡ Assign (Sets [] (codes ".RECIPEPREFIX") Recursive (codes "t")) ∷ []
row_random_246 = refl

row_random_247 : reading (codes ".PHONY :  \nendef:::= \r \n$(p #)  b:$(q:;=|) \\\r\n \nendif # c\nc: $(q:;=|) foo\t-include2 #\0\nt1 \t:= %.o\t# \\\nendef # c\n%.o &: t") ≡ Header ((codes ".PHONY") ∷ []) SingleColon [] [] [] None ∷ Opaque (codes "endef:::= \r ") ∷ Header ((codes "$(p #)") ∷ (codes "b") ∷ []) SingleColon [] ((codes "$(q:;=|)") ∷ []) [] None ∷ Opaque (codes "endif # c") ∷ Opaque (codes "c: $(q:;=|) foo\t-include2 #\0") ∷ Assign (Sets [] (codes "t1") Simple (codes "%.o")) ∷ Header ((codes "%.o") ∷ []) GroupedColon [] ((codes "t") ∷ []) [] None ∷ []
row_random_247 = refl

row_random_248 : reading (codes ".RECIPEPREFIX = \\\\\ni\n$x: c :  #\0\\") ≡ Assign (Sets [] (codes ".RECIPEPREFIX") Recursive (codes "\\\\")) ∷ Opaque (codes "i") ∷ Opaque (codes "$x: c :  #\0\\") ∷ []
row_random_248 = refl

row_random_249 : reading (codes "\n&!\\\\\n\\\n\\\n") ≡ Opaque (codes "&!\\\\") ∷ Opaque (codes "\\\n\\") ∷ []
row_random_249 = refl

row_random_250 : reading (codes " \n>q\t:= x.o# c\nexport >q=  $x\tc1 \n\t\\\n-include2 \\\n \\\n :: endef+= = ${g(} \n${c} ::: \t$(a b) \n ifdef := $(p #)\\\r\n# ") ≡ Assign (Sets [] (codes ">q") Simple (codes "x.o")) ∷ Assign (Sets (Export ∷ []) (codes ">q") Recursive (codes "$x\tc1")) ∷ Opaque (codes "\t\\\n-include2 \\\n \\\n :: endef+= = ${g(} ") ∷ Rough (codes "${c} ::: \t$(a b) ") ∷ Assign (Sets [] (codes "ifdef") Simple (codes "$(p #)")) ∷ []
row_random_250 = refl

row_random_251 : reading [] ≡ []
row_random_251 = refl

row_random_252 : reading (codes "\ta\\\\\n\t# \\\n\tt: u\n\t: o-$(a b):=  #\\\\\\\n\n.RECIPEPREFIX =\\\n\\x\n\t\\\rverride  private  >q := \\\n\\\n\noverride ?=  \\\n \\\n \n") ≡ Opaque (codes "\ta\\\\") ∷ Opaque (codes "\t# \\\n\tt: u") ∷ Opaque (codes "\t: o-$(a b):=  #\\\\\\\n") ∷ Assign (Sets [] (codes ".RECIPEPREFIX") Recursive (codes "\\x")) ∷ Opaque (codes "\t\\\rverride  private  >q := \\\n\\\n") ∷ Assign (Sets [] (codes "override") Conditional []) ∷ []
row_random_252 = refl

row_random_253 : reading (codes "x.o y: \n\t\nfoo $; :\\\n\toverride  X :::=1$# $(f {)#\\\\\\\n\nX$  := \nY\t?= \\# \t\nfoo: c\n>q != \n\n.RECIPEPREFIX?=Ã\nX$:\t?= \t1 \n") ≡ Header ((codes "x.o") ∷ (codes "y") ∷ []) SingleColon [] [] [] None ∷ Recipe [] ∷ Opaque (codes "foo $; :\\\n\toverride  X :::=1$# $(f {)#\\\\\\\n") ∷ Assign (Sets [] (codes "X$ ") Simple []) ∷ Assign (Sets [] (codes "Y") Conditional (codes "\\#")) ∷ Header ((codes "foo") ∷ []) SingleColon [] ((codes "c") ∷ []) [] None ∷ Assign (Sets [] (codes ">q") Shell []) ∷ Assign (Sets [] (codes ".RECIPEPREFIX") Conditional (codes "Ã")) ∷ Assign (Sets [] (codes "X$:") Conditional (codes "1")) ∷ []
row_random_253 = refl

row_random_254 : reading (codes "+ \\\n))endef>\\\n)\n:\r\ndefine D\nifdef A\nt :foo \r\n\\\n#\0\n") ≡ Opaque (codes "+ \\\n))endef>\\\n)") ∷ Header [] SingleColon [] [] [] None ∷ DefineHead (codes "define D") ∷ Body (codes "ifdef A") ∷ Body (codes "t :foo ") ∷ Body (codes "\\\n#\0") ∷ []
row_random_254 = refl

row_random_255 : reading (codes ".RECIPEPREFIX = -\n\\\n# x ; y : z = 1\nvpath %.c a\nexport private define E # c\n") ≡ Assign (Sets [] (codes ".RECIPEPREFIX") Recursive (codes "-")) ∷ Directive (codes "vpath %.c a") ∷ DefineHead (codes "export private define E # c") ∷ []
row_random_255 = refl

row_random_256 : reading (codes "A:= x  y \nCC !=\\\\|\n-x_9\\\n:::= -include2\\\n\t\\\r\n\n: b$==\\\n\n") ≡ Assign (Sets [] (codes "A") Simple (codes "x  y")) ∷ Assign (Sets [] (codes "CC") Shell (codes "\\\\|")) ∷ Assign (Sets [] (codes "-x_9") Immediate (codes "-include2")) ∷ TargetAssign [] SingleColon (Sets [] (codes "b$=") Recursive []) ∷ []
row_random_256 = refl

row_random_257 : reading (codes ".RECIPEPREFIX = >\r\n$(p #):${c} c %.o|\\\r\n # \\\r\n # c\r\no-$(a b) := $\\\n  t ${c} \\\r\n \r\n>}endef\\$\r\n)\n\r\n%.c :\\\r\n$(q:;=|) ;x  y # x ; y : z = 1\r\n") ≡ Assign (Sets [] (codes ".RECIPEPREFIX") Recursive (codes ">")) ∷ Rough (codes "$(p #):${c} c %.o|\\\r\n # \\\r\n # c") ∷ Assign (Sets [] (codes "o-$(a b)") Simple (codes "$ t ${c}")) ∷ Opaque (codes ">}endef\\$") ∷ Opaque (codes ")") ∷ Header ((codes "%.c") ∷ []) SingleColon [] ((codes "$(q:;=|)") ∷ []) [] (Some (codes "x  y # x ; y : z = 1")) ∷ []
row_random_257 = refl

row_random_258 : reading (codes "\r\nc:: \\\n\t;x.o \\\n%.o\\\n\t$(p #)\r\n:$$: \r\noverride  \\#x ::= $(p #) # c\r\nx.o y: \nea\\\ntifdef Z\n\tx\r\n") ≡ Header ((codes "c") ∷ []) DoubleColon [] [] [] (Some (codes "x.o \\\n%.o\\\n\t$(p #)")) ∷ Header [] SingleColon ((codes "$$") ∷ []) [] [] None ∷ Assign (Sets (Override ∷ []) (codes "\\#x") PosixSimple (codes "$(p #)")) ∷ Header ((codes "x.o") ∷ (codes "y") ∷ []) SingleColon [] [] [] None ∷ Opaque (codes "ea\\\ntifdef Z") ∷ Opaque (codes "\tx") ∷ []
row_random_258 = refl

row_random_259 : reading (codes ".PHONY&:: $(p #) b x.o |$$\\\r\n$(q:;=|)  #c \\\n d\n") ≡ Rough (codes ".PHONY&:: $(p #) b x.o |$$\\\r\n$(q:;=|)  #c \\\n d") ∷ []
row_random_259 = refl

row_random_260 : reading (codes ">X$ != -include2 #\0\r\nelse ifdef Q\r\n:X}$\n{+\r\nY\\\r\n:=$(q:;=|) # c\r\n :>q\t::=  \r\n$(q:;=|)\t.PHONY :a.b:::=%.c\\\r\n# \\\r\n") ≡ Opaque (codes ">X$ != -include2 #\0") ∷ Opaque (codes "else ifdef Q") ∷ Rough (codes ":X}$") ∷ Opaque (codes "{+") ∷ Assign (Sets [] (codes "Y") Simple (codes "$(q:;=|)")) ∷ TargetAssign [] SingleColon (Sets [] (codes ">q") PosixSimple []) ∷ TargetAssign ((codes "$(q:;=|)") ∷ (codes ".PHONY") ∷ []) SingleColon (Sets [] (codes "a.b") Immediate (codes "%.c")) ∷ []
row_random_260 = refl

row_random_261 : reading (codes "$(f {) : $\\:|$(q:;=|) foo \\\n  #\\\\\r\n") ≡ Rough (codes "$(f {) : $\\:|$(q:;=|) foo \\\n  #\\\\") ∷ []
row_random_261 = refl

row_random_262 : reading (codes ".RECIPEPREFIX = $$\nt1:= \\\n  \\\\ \nx.o y: ${g(}\nexport  A ::= $  $(f {) \n\\\n\t\n${c} ${g(} : $& :  \\\n \\\n \nifdef A\n") ≡ Assign (Sets [] (codes ".RECIPEPREFIX") Recursive (codes "$$")) ∷ Assign (Sets [] (codes "t1") Simple (codes "\\\\")) ∷ Header ((codes "x.o") ∷ (codes "y") ∷ []) SingleColon [] ((codes "${g(}") ∷ []) [] None ∷ Assign (Sets (Export ∷ []) (codes "A") PosixSimple (codes "$  $(f {)")) ∷ Header ((codes "${c}") ∷ (codes "${g(}") ∷ []) SingleColon ((codes "$&") ∷ []) [] [] None ∷ If (codes "ifdef A") ∷ []
row_random_262 = refl

row_random_263 : reading (codes "private a.b != \\\n  \\\\\\ \\\n$(a b) \n#\nd|&::c\\\n$(f {) ${g(}\t\r\nx.o:%.c :a&b t\ta&b \r\n\ta\\") ≡ Opaque (codes "private a.b != \\\n  \\\\\\ \\\n$(a b) ") ∷ Rough (codes "d|&::c\\\n$(f {) ${g(}\t") ∷ Header ((codes "x.o") ∷ []) SingleColon ((codes "%.c") ∷ []) ((codes "a&b") ∷ (codes "t") ∷ (codes "a&b") ∷ []) [] None ∷ Recipe (codes "a\\") ∷ []
row_random_263 = refl

row_random_264 : reading [] ≡ []
row_random_264 = refl

row_random_265 : reading (codes "(:b)$\\\r\n$$ &: $(a b) $(s\\) .PHONY \r\n# \r\r\nfoo  :\\\n\t\\\r\n%.c t # x ; y : z = 1\n\ta\\\r\n>b\ndefine D") ≡ Rough (codes "(:b)$\\\r\n$$ &: $(a b) $(s\\) .PHONY ") ∷ Header ((codes "foo") ∷ []) SingleColon [] ((codes "%.c") ∷ (codes "t") ∷ []) [] None ∷ Recipe (codes "a\\\r\n>b") ∷ DefineHead (codes "define D") ∷ []
row_random_265 = refl

row_random_266 : reading (codes "override ?= = = 2 3 \nCC:::=\\\n$$\\\r\n\nifdef +=$(s\\)>") ≡ Assign (Sets [] (codes "override") Conditional (codes "= = 2 3")) ∷ Assign (Sets [] (codes "CC") Immediate (codes "$$")) ∷ Assign (Sets [] (codes "ifdef") Append (codes "$(s\\)>")) ∷ []
row_random_266 = refl

row_random_267 : reading (codes "override \\\n+=$( \r\nifdef A\r\nifdef +=\t# c\r\nb &: $(s\\) \r\nload x\r\n\t-include b c\r\ndefine X =\r\n$(q:;=|) : : a&b ${c} $(a b) \\\r\n #\n#\0\r\n") ≡ Assign (Sets [] (codes "override") Append (codes "$( ")) ∷ If (codes "ifdef A") ∷ Assign (Sets [] (codes "ifdef") Append []) ∷ Header ((codes "b") ∷ []) GroupedColon [] ((codes "$(s\\)") ∷ []) [] None ∷ Directive (codes "load x") ∷ Directive (codes "\t-include b c") ∷ DefineHead (codes "define X =") ∷ Body (codes "$(q:;=|) : : a&b ${c} $(a b) \\\r\n #") ∷ Body (codes "#\0") ∷ []
row_random_267 = refl

row_random_268 : reading (codes "tx\noverride ::=\\\n\\\n\n$(f {)  $$: :  ;\t$(q:;=|)$(p #)| \nexport\\\nX :::= \\\n  # c\n.RECIPEPREFIX ::=  \n") ≡ Opaque (codes "tx") ∷ Assign (Sets [] (codes "override") PosixSimple []) ∷ Rough (codes "$(f {)  $$: :  ;\t$(q:;=|)$(p #)| ") ∷ Assign (Sets (Export ∷ []) (codes "X") Immediate []) ∷ Assign (Sets [] (codes ".RECIPEPREFIX") PosixSimple []) ∷ []
row_random_268 = refl

row_random_269 : reading (codes ".RECIPEPREFIX = f\r\n\\\n\t\r\nendef#c\r\nY\\\n\\\n:::= #\r\n.RECIPEPREFIX ?=\\\n>\r\n\telse\r\n\r\n-include b c") ≡ Assign (Sets [] (codes ".RECIPEPREFIX") Recursive (codes "f")) ∷ Opaque (codes "endef#c") ∷ Assign (Sets [] (codes "Y") Immediate []) ∷ Assign (Sets [] (codes ".RECIPEPREFIX") Conditional (codes ">")) ∷ Opaque (codes "\telse") ∷ Directive (codes "-include b c") ∷ []
row_random_269 = refl

row_random_270 : reading (codes "-inc>ude2\\\n%.o \\\n  &: \tdefine !=\\\n.PHY \t\n") ≡ Rough (codes "-inc>ude2\\\n%.o \\\n  &: \tdefine !=\\\n.PHY \t") ∷ []
row_random_270 = refl

row_random_271 : reading (codes "private  X \\\n::= \\\n  $(q:;=|)#\\\\\\\n\nendef:}\nX \\\n  ::= \t.PHONY \n\tendef # c\r\noverride define F \\\n\r\nfoo: \nifdef\\\nB\r\n") ≡ Opaque (codes "private  X \\\n::= \\\n  $(q:;=|)#\\\\\\\n") ∷ Header ((codes "endef") ∷ []) SingleColon [] ((codes "}") ∷ []) [] None ∷ Assign (Sets [] (codes "X") PosixSimple (codes ".PHONY")) ∷ Opaque (codes "\tendef # c") ∷ DefineHead (codes "override define F \\\n") ∷ Body (codes "foo: ") ∷ Body (codes "ifdef\\\nB") ∷ []
row_random_271 = refl

row_random_272 : reading (codes ".$(\nt \\\n$(q:;=|)::${g(}  : \\\n \\\n a  a \t#\0\r\nprivate >q?=  \n\t\\\n-x_9\t:=\\\r\n$(w \\\n\r $\\\n  \r\n") ≡ Opaque (codes ".$(") ∷ Opaque (codes "t \\\n$(q:;=|)::${g(}  : \\\n \\\n a  a \t#\0") ∷ Assign (Sets (Private ∷ []) (codes ">q") Conditional []) ∷ Opaque (codes "\t\\\n-x_9\t:=\\\r\n$(w \\\n\r $\\\n  ") ∷ []
row_random_272 = refl

row_random_273 : reading (codes "{&\r}\t\n \\\n}bendef\r\n\\\n$(f {) &:$x#c \\\n d\nendif\r\n") ≡ Opaque (codes "{&\r}\t") ∷ Opaque (codes " \\\n}bendef") ∷ Header ((codes "$(f {)") ∷ []) GroupedColon [] ((codes "$x") ∷ []) [] None ∷ Opaque (codes "endif") ∷ []
row_random_273 = refl

row_random_274 : reading (codes " \\\n\n") ≡ []
row_random_274 = refl

row_random_275 : reading (codes ".RECIPEPREFIX = e\r\n\\\n#\0\r\n>t: u\r\na: \n\tx\n\\\n\t\nifeq (a,$(b\r\n\ta \\\n\tb\r\n\tx.o &:: $(p #)\r\n$(p #)\tfoo &: \tifd\rf\\\n\t?= x.o $(a b) foo \r\nx.o y: \nifeq (a,$(b\r\n") ≡ Assign (Sets [] (codes ".RECIPEPREFIX") Recursive (codes "e")) ∷ Header ((codes ">t") ∷ []) SingleColon [] ((codes "u") ∷ []) [] None ∷ Header ((codes "a") ∷ []) SingleColon [] [] [] None ∷ Opaque (codes "\tx") ∷ If (codes "ifeq (a,$(b") ∷ Opaque (codes "\ta \\\n\tb") ∷ Header ((codes "x.o") ∷ []) GroupedDoubleColon [] ((codes "$(p #)") ∷ []) [] None ∷ Opaque (codes "$(p #)\tfoo &: \tifd\rf\\\n\t?= x.o $(a b) foo ") ∷ Header ((codes "x.o") ∷ (codes "y") ∷ []) SingleColon [] [] [] None ∷ If (codes "ifeq (a,$(b") ∷ []
row_random_275 = refl

row_random_276 : reading (codes "eifdef Z\na: $x\n\tt: u\na: $x\\\n\t$(p #)\naifdef Z\n\t\n\\\n$(s\\) &:\t${c} | $$\t$(p #) \r\n") ≡ Opaque (codes "eifdef Z") ∷ Header ((codes "a") ∷ []) SingleColon [] ((codes "$x") ∷ []) [] None ∷ Recipe (codes "t: u") ∷ Header ((codes "a") ∷ []) SingleColon [] ((codes "$x") ∷ (codes "$(p #)") ∷ []) [] None ∷ Opaque (codes "aifdef Z") ∷ Opaque (codes "\t") ∷ Header ((codes "$(s\\)") ∷ []) GroupedColon [] ((codes "${c}") ∷ []) ((codes "$$") ∷ (codes "$(p #)") ∷ []) None ∷ []
row_random_276 = refl

row_random_277 : reading (codes "foo\t${c}:: \\\r\n $(s\\): $(a b) \tb $(p #) \\\n \\\n |$$\\\n\t\na&b: \\\n  -include2\\\nb \nx.o y: \n\\\n# \\\n\n\\\n\nX$\\$?\nfoo: :  \n") ≡ Rough (codes "foo\t${c}:: \\\r\n $(s\\): $(a b) \tb $(p #) \\\n \\\n |$$\\\n\t") ∷ Header ((codes "a&b") ∷ []) SingleColon [] ((codes "-include2") ∷ (codes "b") ∷ []) [] None ∷ Header ((codes "x.o") ∷ (codes "y") ∷ []) SingleColon [] [] [] None ∷ Opaque (codes "X$\\$?") ∷ Rough (codes "foo: :  ") ∷ []
row_random_277 = refl

row_random_278 : reading [] ≡ []
row_random_278 = refl

row_random_279 : reading (codes "X!=\t #\\\\\nY ?= -include2 $(a&b \n\\\ndefine != \r $(a b) $(p #) # c\n \\\n\toverride define .RECIPEPREFIX\n") ≡ Assign (Sets [] (codes "X") Shell []) ∷ Assign (Sets [] (codes "Y") Conditional (codes "-include2 $(a&b ")) ∷ Opaque (codes "\\\ndefine != \r $(a b) $(p #) # c") ∷ DefineHead (codes " \\\n\toverride define .RECIPEPREFIX") ∷ []
row_random_279 = refl

row_random_280 : reading (codes "\telse\r\n\tendef\r\nx.o y: ${g(} a\n>define Q\n\t \n>\r\n${g(} : b\\\n${c} $x |  \r\n\ta\\\r\n #\\\\\\\n\r\noverride CC := x.o\r\nx.o y: a\nifdef =; ") ≡ Opaque (codes "\telse") ∷ Opaque (codes "\tendef") ∷ Header ((codes "x.o") ∷ (codes "y") ∷ []) SingleColon [] ((codes "${g(}") ∷ (codes "a") ∷ []) [] None ∷ Opaque (codes ">define Q") ∷ Opaque (codes "\t ") ∷ Opaque (codes ">") ∷ Header ((codes "${g(}") ∷ []) SingleColon [] ((codes "b") ∷ (codes "${c}") ∷ (codes "$x") ∷ []) [] None ∷ Recipe (codes "a\\\r\n #\\\\\\\n") ∷ Assign (Sets (Override ∷ []) (codes "CC") Simple (codes "x.o")) ∷ Header ((codes "x.o") ∷ (codes "y") ∷ []) SingleColon [] ((codes "a") ∷ []) [] None ∷ Assign (Sets [] (codes "ifdef") Recursive (codes ";")) ∷ []
row_random_280 = refl

row_random_281 : reading (codes "override undefine X\n>$(\n>q\\\n=  \n\nx.o\\\n\t$|: define ::=${g(}\n\n$(q:;=|)  &: $(q:;=|)  %.c ;; \\\n-include2 #\0\n\tx\r\n\\\n\t\\\r\n&: override >q  =  \n") ≡ Directive (codes "override undefine X") ∷ Opaque (codes ">$(") ∷ Assign (Sets [] (codes ">q") Recursive []) ∷ TargetAssign ((codes "x.o") ∷ (codes "$|") ∷ []) SingleColon (Sets [] (codes "define") PosixSimple (codes "${g(}")) ∷ Opaque (codes "$(q:;=|)  &: $(q:;=|)  %.c ;; \\\n-include2 #\0") ∷ Opaque (codes "\tx") ∷ Rough (codes "\\\n\t\\\r\n&: override >q  =  ") ∷ []
row_random_281 = refl

row_random_282 : reading (codes "!>)\\$X\0\t\\\n$\t\\\n\n") ≡ Opaque (codes "!>)\\$X\0\t\\\n$\t\\\n") ∷ []
row_random_282 = refl

row_random_283 : reading (codes "a: \ntelse\nta\\\\\n# x ; y : z = 1\n$(f {) \t$(s\\): a \t# x ; y : z = 1\nifeq (\r,$(b\nx.o y: a&b\n\t$(\n>t: u\n\\\n>\t\nY\\\n\\\n=$(p #) : \n >q\n=\\\n\t& ") ≡ Header ((codes "a") ∷ []) SingleColon [] [] [] None ∷ Opaque (codes "telse") ∷ Opaque (codes "ta\\\\") ∷ Header ((codes "$(f {)") ∷ (codes "$(s\\)") ∷ []) SingleColon [] ((codes "a") ∷ []) [] None ∷ Opaque (codes "ifeq (\r,$(b") ∷ Header ((codes "x.o") ∷ (codes "y") ∷ []) SingleColon [] ((codes "a&b") ∷ []) [] None ∷ Recipe (codes "$(") ∷ Header ((codes ">t") ∷ []) SingleColon [] ((codes "u") ∷ []) [] None ∷ Opaque (codes "\\\n>\t") ∷ Assign (Sets [] (codes "Y") Recursive (codes "$(p #) :")) ∷ Opaque (codes " >q") ∷ Opaque (codes "=\\\n\t& ") ∷ []
row_random_283 = refl

row_random_284 : reading (codes "\tdefine Q\r\n\tprivate  override += \\\r\n  ") ≡ DefineHead (codes "\tdefine Q") ∷ Body (codes "\tprivate  override += \\\r\n  ") ∷ []
row_random_284 = refl

row_random_285 : reading (codes "$;: \\\n \\\n |a\\ b# \\\r\n\tx\r\nx.o y: t\n\telse\n\telse\noverride :::= \\\n \\\n  \n%.o:$(s\\) \n\telse\n$(f {)&:: \\\r\n $$ :$(s\\) $\t|  \t#\nx.o y: $(a b)  $(s\\)\n\techo a # b\n\t\n\t$(\n\\\nifneq\n") ≡ Rough (codes "$;: \\\n \\\n |a\\ b# \\\r\n\tx") ∷ Header ((codes "x.o") ∷ (codes "y") ∷ []) SingleColon [] ((codes "t") ∷ []) [] None ∷ Recipe (codes "else") ∷ Recipe (codes "else") ∷ Assign (Sets [] (codes "override") Immediate []) ∷ Header ((codes "%.o") ∷ []) SingleColon [] ((codes "$(s\\)") ∷ []) [] None ∷ Recipe (codes "else") ∷ Rough (codes "$(f {)&:: \\\r\n $$ :$(s\\) $\t|  \t#") ∷ Header ((codes "x.o") ∷ (codes "y") ∷ []) SingleColon [] ((codes "$(a b)") ∷ (codes "$(s\\)") ∷ []) [] None ∷ Recipe (codes "echo a # b") ∷ Recipe [] ∷ Recipe (codes "$(") ∷ If (codes "\\\nifneq") ∷ []
row_random_285 = refl

row_random_286 : reading (codes ":\\\n") ≡ Rough (codes ":\\") ∷ []
row_random_286 = refl

row_random_287 : reading (codes "$(a b) :$&\t$(q:;=|) \\\n  !$ \n\t \n>y\r\n\t\\\n$|define=:\n\r\n\\\n") ≡ Rough (codes "$(a b) :$&\t$(q:;=|) \\\n  !$ ") ∷ Recipe (codes " ") ∷ Opaque (codes ">y") ∷ Opaque (codes "\t\\\n$|define=:") ∷ Opaque (codes "\\") ∷ []
row_random_287 = refl

row_random_288 : reading (codes "}{#=}#&\\\r\n\nt$(") ≡ Opaque (codes "}{#=}#&\\\r\n") ∷ Opaque (codes "t$(") ∷ []
row_random_288 = refl

row_random_289 : reading [] ≡ []
row_random_289 = refl

row_random_290 : reading (codes ".RECIPEPREFIX = d\n${g(}\\ \\\na  &: ; b\\\r\n\naa\\\nta \\\n\tb\na\\= :=\n") ≡ Assign (Sets [] (codes ".RECIPEPREFIX") Recursive (codes "d")) ∷ Opaque (codes "${g(}\\ \\\na  &: ; b\\\r\n") ∷ Opaque (codes "aa\\\nta \\\n\tb") ∷ Assign (Sets [] (codes "a\\=") Simple []) ∷ []
row_random_290 = refl

row_random_291 : reading (codes ".RECIPEPREFIX=>\r\n\t# c\r{\nX$: ::= : \\\\") ≡ Assign (Sets [] (codes ".RECIPEPREFIX") Recursive (codes ">")) ∷ Assign (Sets [] (codes "X$:") PosixSimple (codes ": \\\\")) ∷ []
row_random_291 = refl

row_random_292 : reading (codes ".a \\\n\tb\na: a \\\r\n %.o\n\tifdef Z\nifdef\\\nB\n\t\n$(f {) &: \nendef +=$(a b) $#") ≡ Opaque (codes ".a \\\n\tb") ∷ Header ((codes "a") ∷ []) SingleColon [] ((codes "a") ∷ (codes "%.o") ∷ []) [] None ∷ Recipe (codes "ifdef Z") ∷ If (codes "ifdef\\\nB") ∷ Recipe [] ∷ Header ((codes "$(f {)") ∷ []) GroupedColon [] [] [] None ∷ Assign (Sets [] (codes "endef") Append (codes "$(a b) $#")) ∷ []
row_random_292 = refl

row_random_293 : reading (codes ">q +=\tx.o\\\n# \\\nendef ::=\t\\# \r\ne \n>a\\\neecho a # b\r\n$(s\\) : $x b\r\n\ta\\\r\n>b\r\nfoo: a&b\n\t\nendif # c\n\t$(\r\n") ≡ Assign (Sets [] (codes ">q") Append (codes "x.o")) ∷ Opaque (codes "e ") ∷ Opaque (codes ">a\\\neecho a # b") ∷ Header ((codes "$(s\\)") ∷ []) SingleColon [] ((codes "$x") ∷ (codes "b") ∷ []) [] None ∷ Recipe (codes "a\\\r\n>b") ∷ Header ((codes "foo") ∷ []) SingleColon [] ((codes "a&b") ∷ []) [] None ∷ Recipe [] ∷ Opaque (codes "endif # c") ∷ Opaque (codes "\t$(") ∷ []
row_random_293 = refl

row_random_294 : reading (codes ".RECIPEPREFIX =  \r\n>Z = 1\r\n${g(}\\\n\t${c} :: export endef :=$\\\n${c}#\\\\\r\n>$(a b): a %.c \r\n.RECIPEPREFIX ?=\\\n>\r\nx.o ::: ${c} \\\r\n -include2 || c \r\n\\\n\t\r\noverride private \\\r\n CC += \r\n\t\r\n") ≡ Assign (Sets [] (codes ".RECIPEPREFIX") Recursive []) ∷ Assign (Sets [] (codes ">Z") Recursive (codes "1")) ∷ TargetAssign ((codes "${g(}") ∷ (codes "${c}") ∷ []) DoubleColon (Sets (Export ∷ []) (codes "endef") Simple (codes "$ ${c}")) ∷ Header ((codes ">$(a b)") ∷ []) SingleColon [] ((codes "a") ∷ (codes "%.c") ∷ []) [] None ∷ Assign (Sets [] (codes ".RECIPEPREFIX") Conditional (codes ">")) ∷ Rough (codes "x.o ::: ${c} \\\r\n -include2 || c ") ∷ Assign (Sets (Override ∷ Private ∷ []) (codes "CC") Append []) ∷ []
row_random_294 = refl

row_random_295 : reading (codes "ifdef\\\nB\n.PHONY :::.PHONY %.o .PHONY \nb : foo \n \\\n\nb: a\t.PHONY ${c} # x ; y : z = 1\n-x_9\t?= \ta\\:b \n") ≡ If (codes "ifdef\\\nB") ∷ Rough (codes ".PHONY :::.PHONY %.o .PHONY ") ∷ Header ((codes "b") ∷ []) SingleColon [] ((codes "foo") ∷ []) [] None ∷ Header ((codes "b") ∷ []) SingleColon [] ((codes "a") ∷ (codes ".PHONY") ∷ (codes "${c}") ∷ []) [] None ∷ Assign (Sets [] (codes "-x_9") Conditional (codes "a\\:b")) ∷ []
row_random_295 = refl

row_random_296 : reading (codes ">endif\r|\naifdef Z\r\ndefine D\r\nc:%.o :  | %.o\t\r\nendif\r\n") ≡ Opaque (codes ">endif\r|") ∷ Opaque (codes "aifdef Z") ∷ DefineHead (codes "define D") ∷ Body (codes "c:%.o :  | %.o\t") ∷ Body (codes "endif") ∷ []
row_random_296 = refl

row_random_297 : reading (codes "else\r\n-include2&:: $(f {)\\\n\t\\\r\n$(q:;=|) ${g(} \r\n\tendif\r\n%.c &: %.c \r\na:::  \\\n \\\n \r\na.b?= $(m \\\n n) \\\n\r\nendef # c\r\n>\\\n\r\n") ≡ Opaque (codes "else") ∷ Header ((codes "-include2") ∷ []) GroupedDoubleColon [] ((codes "$(f {)") ∷ (codes "$(q:;=|)") ∷ (codes "${g(}") ∷ []) [] None ∷ Recipe (codes "endif") ∷ Header ((codes "%.c") ∷ []) GroupedColon [] ((codes "%.c") ∷ []) [] None ∷ Rough (codes "a:::  \\\n \\\n ") ∷ Assign (Sets [] (codes "a.b") Conditional (codes "$(m n)")) ∷ Opaque (codes "endef # c") ∷ Opaque (codes ">\\\n") ∷ []
row_random_297 = refl

row_random_298 : reading (codes ".RECIPEPREFIX = .\n\\\n#\\\\\nexport private define \n$(s\\):: \na $x  $(p #) |  $x  $(a b) \\\n  \n\n&a\\\n)\\\n\nb\0&a\nx.o :: a.b= $$ \nb :x.o\\\n\t\\\r\n${c} $$ | $(p #) c # x ; y : z = 1\n$$ : : \t\\#: \\ a&b\t$(s\\)#\\\\\\\n") ≡ Assign (Sets [] (codes ".RECIPEPREFIX") Recursive (codes ".")) ∷ DefineHead (codes "export private define ") ∷ Body (codes "$(s\\):: ") ∷ Body (codes "a $x  $(p #) |  $x  $(a b) \\\n  ") ∷ Body [] ∷ Body (codes "&a\\\n)\\\n") ∷ Body (codes "b\0&a") ∷ Body (codes "x.o :: a.b= $$ ") ∷ Body (codes "b :x.o\\\n\t\\\r\n${c} $$ | $(p #) c # x ; y : z = 1") ∷ Body (codes "$$ : : \t\\#: \\ a&b\t$(s\\)#\\\\\\") ∷ []
row_random_298 = refl

row_random_299 : reading (codes "x.o y: b\t${c}\n\tendif\n$(a b):$\\{c} $(f {) \n>y\r\n>a \\\n\tb\n\\\nifndef X # c\n>q:= \\\\$#\t#\n.RECIPEPREFIX\\\n\t:::=\\\n\na: a&b") ≡ Header ((codes "x.o") ∷ (codes "y") ∷ []) SingleColon [] ((codes "b") ∷ (codes "${c}") ∷ []) [] None ∷ Recipe (codes "endif") ∷ Rough (codes "$(a b):$\\{c} $(f {) ") ∷ Opaque (codes ">y") ∷ Opaque (codes ">a \\\n\tb") ∷ If (codes "\\\nifndef X # c") ∷ Assign (Sets [] (codes ">q") Simple (codes "\\\\$#")) ∷ Assign (Sets [] (codes ".RECIPEPREFIX") Immediate []) ∷ Header ((codes "a") ∷ []) SingleColon [] ((codes "a&b") ∷ []) [] None ∷ []
row_random_299 = refl

row_random_300 : reading (codes "\tdefine Q\r\nelse ifdef Q\n>echo a # b\n.RECIPEPREFIX =\\\n>\r\n$x :\\\n\\\n \n.PHONY :::\0c \\\n: a(e$(\nendif # c\r\n") ≡ DefineHead (codes "\tdefine Q") ∷ Body (codes "else ifdef Q") ∷ Body (codes ">echo a # b") ∷ Body (codes ".RECIPEPREFIX =\\\n>") ∷ Body (codes "$x :\\\n\\\n ") ∷ Body (codes ".PHONY :::\0c \\\n: a(e$(") ∷ Body (codes "endif # c") ∷ []
row_random_300 = refl

row_random_301 : reading (codes "t1:=#c \\\n d\noverride\tifdef  ?= \0$(q:;=|)\t$(p #) \nx.o y: x.o $(a b)\n\ty\r\na: \n>define Q\n>Z = 1\n") ≡ Assign (Sets [] (codes "t1") Simple []) ∷ Opaque (codes "override\tifdef  ?= \0$(q:;=|)\t$(p #) ") ∷ Header ((codes "x.o") ∷ (codes "y") ∷ []) SingleColon [] ((codes "x.o") ∷ (codes "$(a b)") ∷ []) [] None ∷ Recipe (codes "y") ∷ Header ((codes "a") ∷ []) SingleColon [] [] [] None ∷ Opaque (codes ">define Q") ∷ Assign (Sets [] (codes ">Z") Recursive (codes "1")) ∷ []
row_random_301 = refl

row_random_302 : reading (codes "$(s\\): a \t-include2 \t.PHONY \r\n$$::: \\\na&b \\\n \\\n ${c} $(p #) # \\\n${v: foo; :  1#\nendef ?= \r\na: \n.endif\n>a \\\n\tb\r\n${g(} : \t\r\nCC := \r\n>t: u\r\n>q += \\# $(f {) \\\n \\\n t ") ≡ Header ((codes "$(s\\)") ∷ []) SingleColon [] ((codes "a") ∷ (codes "-include2") ∷ (codes ".PHONY") ∷ []) [] None ∷ Rough (codes "$$::: \\\na&b \\\n \\\n ${c} $(p #) # \\\n${v: foo; :  1#") ∷ Assign (Sets [] (codes "endef") Conditional []) ∷ Header ((codes "a") ∷ []) SingleColon [] [] [] None ∷ Opaque (codes ".endif") ∷ Opaque (codes ">a \\\n\tb") ∷ Header ((codes "${g(}") ∷ []) SingleColon [] [] [] None ∷ Assign (Sets [] (codes "CC") Simple []) ∷ Header ((codes ">t") ∷ []) SingleColon [] ((codes "u") ∷ []) [] None ∷ Assign (Sets [] (codes ">q") Append (codes "\\# $(f {) t")) ∷ []
row_random_302 = refl

row_random_303 : reading (codes "$$ $$:\\\n\t\\\r\nvrride \\\n \\\n != \\\n\r\nt1 +=$\\\n  #\\\\\\\n\r\noverride::= a \\\n \\\n $x \\\r\n $(s\\) \t# \\\r\n\tx\r\n$(p #): $(s\\) # \r\n\t \r\nprivate  override \\\n  ifdef += # \r\r\n") ≡ TargetAssign ((codes "$$") ∷ (codes "$$") ∷ []) SingleColon (Sets [] (codes "vrride") Shell []) ∷ Opaque (codes "t1 +=$\\\n  #\\\\\\\n") ∷ Assign (Sets [] (codes "override") PosixSimple (codes "a $x $(s\\)")) ∷ Header ((codes "$(p #)") ∷ []) SingleColon [] ((codes "$(s\\)") ∷ []) [] None ∷ Recipe (codes " ") ∷ Opaque (codes "private  override \\\n  ifdef += # \r") ∷ []
row_random_303 = refl

row_random_304 : reading (codes "b: : a&b \\\n \\\n -include2 #\0\n>endef\n") ≡ Opaque (codes "b: : a&b \\\n \\\n -include2 #\0") ∷ Opaque (codes ">endef") ∷ []
row_random_304 = refl

row_random_305 : reading (codes "-x_9 \\\n  = \r\nx.o y: t $(p #)\nifdef\\\nB\n\tifdef Z\n\tdefine Q\r\nendif # c\r\nifdef:::= $x \r\n>a:%.c :\r\ndefine X =\r\n") ≡ Assign (Sets [] (codes "-x_9") Recursive []) ∷ Header ((codes "x.o") ∷ (codes "y") ∷ []) SingleColon [] ((codes "t") ∷ (codes "$(p #)") ∷ []) [] None ∷ If (codes "ifdef\\\nB") ∷ Recipe (codes "ifdef Z") ∷ Recipe (codes "define Q") ∷ Endif (codes "endif # c") ∷ Assign (Sets [] (codes "ifdef") Immediate (codes "$x")) ∷ Header ((codes ">a") ∷ []) SingleColon ((codes "%.c") ∷ []) [] [] None ∷ DefineHead (codes "define X =") ∷ []
row_random_305 = refl

row_random_306 : reading (codes ".RECIPEPREFIX = d\n$(a b):  \n$(s\\): %.o| x.o \n\t\n$(a b)  $(s\\) ::${c} ;\nelse\n>else") ≡ Assign (Sets [] (codes ".RECIPEPREFIX") Recursive (codes "d")) ∷ Header ((codes "$(a b)") ∷ []) SingleColon [] [] [] None ∷ Rough (codes "$(s\\): %.o| x.o ") ∷ Header ((codes "$(a b)") ∷ (codes "$(s\\)") ∷ []) DoubleColon [] ((codes "${c}") ∷ []) [] (Some []) ∷ Opaque (codes "else") ∷ Opaque (codes ">else") ∷ []
row_random_306 = refl

row_random_307 : reading (codes ".RECIPEPREFIX = X\nendef = \\\n \\\n x.o $(m \\\n n)\n\\\n|=\\\n\na: .PHONY $(s\\)\n#\0\nifdef :::= ${c} \noverride  override\\\n\toverride!= a$( \\\r\n %.o\\\n\\\n#c \\\n d\n\0\0\r\n+>define\n\r\n!!a|\\\n=\\\n?\ndefine D\n\t$(") ≡ Assign (Sets [] (codes ".RECIPEPREFIX") Recursive (codes "X")) ∷ Assign (Sets [] (codes "endef") Recursive (codes "x.o $(m n)")) ∷ Assign (Sets [] (codes "|") Recursive []) ∷ Header ((codes "a") ∷ []) SingleColon [] ((codes ".PHONY") ∷ (codes "$(s\\)") ∷ []) [] None ∷ Assign (Sets [] (codes "ifdef") Immediate (codes "${c}")) ∷ Assign (Sets (Override ∷ Override ∷ []) (codes "override") Shell (codes "a$( %.o #c d")) ∷ Opaque (codes "\0\0") ∷ Opaque (codes "+>define") ∷ Assign (Sets [] (codes "!!a|") Recursive (codes "?")) ∷ DefineHead (codes "define D") ∷ Body (codes "\t$(") ∷ []
row_random_307 = refl

row_random_308 : reading (codes "#\\\na\0;b\\\n\\\nX\n") ≡ []
row_random_308 = refl

row_random_309 : reading (codes "\r\na&b \t:: $x\t$(a b) |\\\na&b\\\r\n\ntecho a # b\r\n") ≡ Header ((codes "a&b") ∷ []) DoubleColon [] ((codes "$x") ∷ (codes "$(a b)") ∷ []) ((codes "a&b") ∷ []) None ∷ Opaque (codes "techo a # b") ∷ []
row_random_309 = refl

row_random_310 : reading (codes "\\\\\n\\>\n") ≡ Opaque (codes "\\\\") ∷ Opaque (codes "\\>") ∷ []
row_random_310 = refl

row_random_311 : reading (codes "\tifdef\\\nB\n>$(p #): : ${c}\\\n\\\n# c\n\\\n\t\n\ta\\\nfo: \n\tt: u\nelendefse ifdef Q\n\\\n\t-x_9:+= \\\n \\\n  \\\n\n${c}\\\n\\\n: | ${g(} $$; \\\r\n \0 # c\n") ≡ If (codes "\tifdef\\\nB") ∷ Rough (codes ">$(p #): : ${c}\\\n\\\n# c") ∷ Recipe (codes "a\\\nfo: ") ∷ Recipe (codes "t: u") ∷ Opaque (codes "elendefse ifdef Q") ∷ Rough (codes "\\\n\t-x_9:+= \\\n \\\n  \\\n") ∷ Opaque (codes "${c}\\\n\\\n: | ${g(} $$; \\\r\n \0 # c") ∷ []
row_random_311 = refl

row_random_312 : reading (codes "ifdef A\r\n private endef\t:= x.o $#\n\\\ndefine{define++)$$\r\n t:::a&b| \r\nendef = %.o # \r\r\n>$(a b) :::c : -include2 | a:b \t$x#\0\r\n\\\n$(f {): :  \ndefine X =\n\tendif") ≡ If (codes "ifdef A") ∷ Assign (Sets (Private ∷ []) (codes "endef") Simple (codes "x.o $#")) ∷ Opaque (codes "\\\ndefine{define++)$$") ∷ Rough (codes " t:::a&b| ") ∷ Opaque (codes "endef = %.o # \r") ∷ Opaque (codes ">$(a b) :::c : -include2 | a:b \t$x#\0") ∷ Rough (codes "\\\n$(f {): :  ") ∷ DefineHead (codes "define X =") ∷ Body (codes "\tendif") ∷ []
row_random_312 = refl

row_random_313 : reading (codes "\\") ≡ Opaque (codes "\\") ∷ []
row_random_313 = refl

row_random_314 : reading (codes "a $(q:;=|) &:$(p #): %.o \t${c}\t$(a b) # c\n\nX +=:\\\n\\\n-include2 b \n>echo a # b\nc: :  | foo $$ #\naa\\\r\n>b\n") ≡ Rough (codes "a $(q:;=|) &:$(p #): %.o \t${c}\t$(a b) # c") ∷ Assign (Sets [] (codes "X") Append (codes ": -include2 b")) ∷ Opaque (codes ">echo a # b") ∷ Rough (codes "c: :  | foo $$ #") ∷ Opaque (codes "aa\\\r\n>b") ∷ []
row_random_314 = refl

row_random_315 : reading [] ≡ []
row_random_315 = refl

row_random_316 : reading (codes "endef \t?=\\\n  \\\\\t\n") ≡ Assign (Sets [] (codes "endef") Conditional (codes "\\\\")) ∷ []
row_random_316 = refl

row_random_317 : reading (codes "end\\\nef\na.b \\\n  !=\\\n\t%.o ${g(}#\0\n\\\n# c\na.b ::= x.o\\\\ \n.RIPEPREFIX=\\\n:\nX= $x \\\n  #\\\\\n>define Q\n\t\n") ≡ Opaque (codes "end\\\nef") ∷ Opaque (codes "a.b \\\n  !=\\\n\t%.o ${g(}#\0") ∷ Assign (Sets [] (codes "a.b") PosixSimple (codes "x.o\\\\")) ∷ Assign (Sets [] (codes ".RIPEPREFIX") Recursive (codes ":")) ∷ Assign (Sets [] (codes "X") Recursive (codes "$x")) ∷ Opaque (codes ">define Q") ∷ Opaque (codes "\t") ∷ []
row_random_317 = refl

row_random_318 : reading (codes "\tendef\nY =  \nCC :::= !x  y \nX \t+=   #\n \\\n\nifneq\n\\\nexport define\n") ≡ Opaque (codes "\tendef") ∷ Assign (Sets [] (codes "Y") Recursive []) ∷ Assign (Sets [] (codes "CC") Immediate (codes "!x  y")) ∷ Assign (Sets [] (codes "X") Append []) ∷ If (codes "ifneq") ∷ DefineHead (codes "\\\nexport define") ∷ []
row_random_318 = refl

row_random_319 : reading (codes ".RECIPEPREFIX+=\\\n>\nt1  := \nfoo: \n\tx\n\\\n%.o&:$(q:;=|)  $x $(q:;=|) # x ; y : z = 1\n endef # c\n$(s\\): : $x:  $(q:;=|)  $$ $(f {) \n-x_9::= $(q:;=|)\n") ≡ Assign (Sets [] (codes ".RECIPEPREFIX") Append (codes ">")) ∷ Assign (Sets [] (codes "t1") Simple []) ∷ Header ((codes "foo") ∷ []) SingleColon [] [] [] None ∷ Recipe (codes "x") ∷ Header ((codes "%.o") ∷ []) GroupedColon [] ((codes "$(q:;=|)") ∷ (codes "$x") ∷ (codes "$(q:;=|)") ∷ []) [] None ∷ Opaque (codes " endef # c") ∷ Rough (codes "$(s\\): : $x:  $(q:;=|)  $$ $(f {) ") ∷ Assign (Sets [] (codes "-x_9") PosixSimple (codes "$(q:;=|)")) ∷ []
row_random_319 = refl

row_random_320 : reading (codes ".RECIPEPREFIX = $$\n-x_9:=$$ %.c\\\n\\\n$(s\\)\nifeq (a,$(b\\\n") ≡ Assign (Sets [] (codes ".RECIPEPREFIX") Recursive (codes "$$")) ∷ Assign (Sets [] (codes "-x_9") Simple (codes "$$ %.c $(s\\)")) ∷ If (codes "ifeq (a,$(b\\") ∷ []
row_random_320 = refl

row_random_321 : reading (codes ".RECIPEPREFIX =\t \n:={\\define\\\\\n\0=(:X\n\t\\\no-$(a b) =  \n \\\n\n") ≡ Assign (Sets [] (codes ".RECIPEPREFIX") Recursive []) ∷ Rough (codes ":={\\define\\\\") ∷ Opaque (codes "\0=(:X") ∷ Opaque (codes "\t\\\no-$(a b) =  ") ∷ []
row_random_321 = refl

row_random_322 : reading (codes "a\t\\\n \n# x ; y : z = 1\n \n") ≡ Opaque (codes "a\t\\\n ") ∷ []
row_random_322 = refl

row_random_323 : reading (codes "a.b ?= \t# c\r\n") ≡ Assign (Sets [] (codes "a.b") Conditional []) ∷ []
row_random_323 = refl

row_random_324 : reading (codes "-x_9 :::= $(m \\\n n) $\\\r\n \r\noverride X\t::=-include+2 a&b c \\\n  # x ; y : z = 1\r\n$(f {):\\\n| #\\\\\\\n\n\r\n #\r\n.Z = 1\r\n\0?\\\\\n;endef\t\\::\r\n$(s\\) \tt \t::   | ${c} ;  \r\n\ta \\\n\tb\r\n%.o:${c}: $(f {) #c \\\n d") ≡ Assign (Sets [] (codes "-x_9") Immediate (codes "$(m n) $ ")) ∷ Assign (Sets (Override ∷ []) (codes "X") PosixSimple (codes "-include+2 a&b c")) ∷ Opaque (codes "$(f {):\\\n| #\\\\\\\n") ∷ Assign (Sets [] (codes ".Z") Recursive (codes "1")) ∷ Opaque (codes "\0?\\\\") ∷ Opaque (codes ";endef\t\\::") ∷ Header ((codes "$(s\\)") ∷ (codes "t") ∷ []) DoubleColon [] [] ((codes "${c}") ∷ []) (Some (codes "  ")) ∷ Recipe (codes "a \\\n\tb") ∷ Header ((codes "%.o") ∷ []) SingleColon ((codes "${c}") ∷ []) ((codes "$(f {)") ∷ []) [] None ∷ []
row_random_324 = refl

row_random_325 : reading (codes "export .RECIPEPREFIX:::=\\\n\r\n") ≡ Assign (Sets (Export ∷ []) (codes ".RECIPEPREFIX") Immediate []) ∷ []
row_random_325 = refl

row_random_326 : reading [] ≡ []
row_random_326 = refl

row_random_327 : reading (codes "x.o y: $(f {)\n\t$(\n$(s\\) b : >q::=$(s\\) \\\r\n #c \\\n d\nendef \\\n \\\n := 2 3 \nprivate \\\nCC\t:::= : # \r\nifneq\na &: foo\\\n\\\n$x \\\n  \n%.o &:\\\n\t\\\r\n$(f {) $(s\\) a \\\n  | -include2; $# \t#\0\n%.o::\\\n$(q:;=|) \t\n\ta\\\r\n>b\n") ≡ Header ((codes "x.o") ∷ (codes "y") ∷ []) SingleColon [] ((codes "$(f {)") ∷ []) [] None ∷ Recipe (codes "$(") ∷ TargetAssign ((codes "$(s\\)") ∷ (codes "b") ∷ []) SingleColon (Sets [] (codes ">q") PosixSimple (codes "$(s\\)")) ∷ Assign (Sets [] (codes "endef") Simple (codes "2 3")) ∷ Assign (Sets (Private ∷ []) (codes "CC") Immediate (codes ":")) ∷ If (codes "ifneq") ∷ Header ((codes "a") ∷ []) GroupedColon [] ((codes "foo") ∷ (codes "$x") ∷ []) [] None ∷ Opaque (codes "%.o &:\\\n\t\\\r\n$(f {) $(s\\) a \\\n  | -include2; $# \t#\0") ∷ Header ((codes "%.o") ∷ []) DoubleColon [] ((codes "$(q:;=|)") ∷ []) [] None ∷ Recipe (codes "a\\\r\n>b") ∷ []
row_random_327 = refl

row_random_328 : reading (codes "else ifdef Q\r\n") ≡ Opaque (codes "else ifdef Q") ∷ []
row_random_328 = refl

row_random_329 : reading (codes ".RECIPEPREFIX = X\n\ta\\\\\n%.o\tfoo  &:\\\n\t\\\r\n%.c \\\r\n ;$x\\\n\t\\\r\n%.c \n\tifdef Z\n\t \n\ta\\\\\nexport\n$(f {) ::: c\t-include2\\\n\ta&b \nY! := \\\r\n foo#c \\\n d\nA ?= $(p #) \\\n$(  \ndefine X =\n>a&b \\\r\n : %.o# \r\n") ≡ Assign (Sets [] (codes ".RECIPEPREFIX") Recursive (codes "X")) ∷ Opaque (codes "\ta\\\\") ∷ Header ((codes "%.o") ∷ (codes "foo") ∷ []) GroupedColon [] ((codes "%.c") ∷ []) [] (Some (codes "$x\\\n\t\\\r\n%.c ")) ∷ If (codes "\tifdef Z") ∷ Opaque (codes "\ta\\\\") ∷ Directive (codes "export") ∷ Rough (codes "$(f {) ::: c\t-include2\\\n\ta&b ") ∷ Assign (Sets [] (codes "Y!") Simple (codes "foo")) ∷ Assign (Sets [] (codes "A") Conditional (codes "$(p #) $(  ")) ∷ DefineHead (codes "define X =") ∷ Body (codes ">a&b \\\r\n : %.o# ") ∷ []
row_random_329 = refl

row_random_330 : reading (codes "\tdefine Q\r\n${g(}: .PHONY $(p #)\r\nendef # c\r\n\t$x&: a.b :::=  \\ \r\n>endef\r\nY::= $(q?;=|)\\ c\\\n\t\r\n.PHONY&:: %.o \tfoo \\\n  ;$  t\\\r\n#endef \r\r\n") ≡ DefineHead (codes "\tdefine Q") ∷ Body (codes "${g(}: .PHONY $(p #)") ∷ Endef (codes "endef # c") ∷ Opaque (codes "\t$x&: a.b :::=  \\ ") ∷ Opaque (codes ">endef") ∷ Assign (Sets [] (codes "Y") PosixSimple (codes "$(q?;=|)\\ c")) ∷ Opaque (codes ".PHONY&:: %.o \tfoo \\\n  ;$  t\\\r\n#endef \r") ∷ []
row_random_330 = refl

row_random_331 : reading (codes "\tZ = 1\n>a\\\r\n>b\nx.o : foo \t;   \no-$(a b) :=   \n+ \t!= c:\n") ≡ Assign (Sets [] (codes "Z") Recursive (codes "1")) ∷ Opaque (codes ">a\\\r\n>b") ∷ Header ((codes "x.o") ∷ []) SingleColon [] ((codes "foo") ∷ []) [] (Some (codes "   ")) ∷ Assign (Sets [] (codes "o-$(a b)") Simple []) ∷ Assign (Sets [] (codes "+") Shell (codes "c:")) ∷ []
row_random_331 = refl

row_random_332 : reading (codes "-include2 : # c\r\noverride define E # c\r\n\ty\r\r\nendif # c\r\n") ≡ Header ((codes "-include2") ∷ []) SingleColon [] [] [] None ∷ DefineHead (codes "override define E # c") ∷ Body (codes "\ty\r") ∷ Body (codes "endif # c") ∷ []
row_random_332 = refl

row_random_333 : reading (codes ".RECIPEPREFIX = %\nfoo: %.c\t$x\n\t \n") ≡ Assign (Sets [] (codes ".RECIPEPREFIX") Recursive (codes "%")) ∷ Header ((codes "foo") ∷ []) SingleColon [] ((codes "%.c") ∷ (codes "$x") ∷ []) [] None ∷ []
row_random_333 = refl

row_random_334 : reading (codes "a : \\\n  a c \n$(f {):: t \\\n$(s\\) \\\n  | a&b\\\n$x \\\r\n \n\t$(\n") ≡ Header ((codes "a") ∷ []) SingleColon [] ((codes "a") ∷ (codes "c") ∷ []) [] None ∷ Header ((codes "$(f {)") ∷ []) DoubleColon [] ((codes "t") ∷ (codes "$(s\\)") ∷ []) ((codes "a&b") ∷ (codes "$x") ∷ []) None ∷ Recipe (codes "$(") ∷ []
row_random_334 = refl

row_random_335 : reading (codes ".RECIPEPREFIX = :\nexport private define \n${g(}:: $(a b) a \tc\\$\n.PHONY: | $x\ta&b \r\nt1 \t=\\\n\t\\\r\n \\\n \\\n \n\n%.c:: \\\n \\\n a \r\n.RECIPEPREFIX+=>>\r\n") ≡ Assign (Sets [] (codes ".RECIPEPREFIX") Recursive (codes ":")) ∷ DefineHead (codes "export private define ") ∷ Body (codes "${g(}:: $(a b) a \tc\\$") ∷ Body (codes ".PHONY: | $x\ta&b ") ∷ Body (codes "t1 \t=\\\n\t\\\r\n \\\n \\\n ") ∷ Body [] ∷ Body (codes "%.c:: \\\n \\\n a ") ∷ Body (codes ".RECIPEPREFIX+=>>") ∷ []
row_random_335 = refl

row_random_336 : reading (codes "ifdef::=$(f {)t \\\n# x ; y : z = 1") ≡ Assign (Sets [] (codes "ifdef") PosixSimple (codes "$(f {)t")) ∷ []
row_random_336 = refl

row_random_337 : reading (codes "\ta\\\r\n>b\n.PHONY $x \\\r\n &:  ; $  # \r\n$x :\tt \t-include2 \nfoo\\\r\n: \\\n \n") ≡ Opaque (codes "\ta\\\r\n>b") ∷ Header ((codes ".PHONY") ∷ (codes "$x") ∷ []) GroupedColon [] [] [] (Some (codes " $  # ")) ∷ Header ((codes "$x") ∷ []) SingleColon [] ((codes "t") ∷ (codes "-include2") ∷ []) [] None ∷ Header ((codes "foo") ∷ []) SingleColon [] [] [] None ∷ []
row_random_337 = refl

row_random_338 : reading (codes "x.o :$$ $x\tt \n\ta \\\n\tb\nb  &: | \n\t>q= $(m \\\n n)x  y $$\n\\#:::t b \t$(q:;=|) #\\\\\\\n\n") ≡ Header ((codes "x.o") ∷ []) SingleColon [] ((codes "$$") ∷ (codes "$x") ∷ (codes "t") ∷ []) [] None ∷ Recipe (codes "a \\\n\tb") ∷ Header ((codes "b") ∷ []) GroupedColon [] [] [] None ∷ Recipe (codes ">q= $(m \\\n n)x  y $$") ∷ Opaque (codes "\\#:::t b \t$(q:;=|) #\\\\\\\n") ∷ []
row_random_338 = refl

row_random_339 : reading (codes "foo: .PHONY\n\r\tZ = 1\n>y\r\n\\\n\t") ≡ Header ((codes "foo") ∷ []) SingleColon [] ((codes ".PHONY") ∷ []) [] None ∷ Opaque (codes "\r\tZ = 1") ∷ Opaque (codes ">y") ∷ []
row_random_339 = refl

row_random_340 : reading [] ≡ []
row_random_340 = refl

row_random_341 : reading (codes "override define .RECIPEPREFIX\n: override  X$ \\\n::= |\\\n\\\n%.o \nifdef:::=a$(s\\) foo# \r\n>q \\\n:=\\\n\na\\ b x.o&:: %.o $(p #) ; \\\na&b $\\\n \\$x \\\n \\\n #\\\\\\\n\n") ≡ DefineHead (codes "override define .RECIPEPREFIX") ∷ Body (codes ": override  X$ \\\n::= |\\\n\\\n%.o ") ∷ Body (codes "ifdef:::=a$(s\\) foo# ") ∷ Body (codes ">q \\\n:=\\\n") ∷ Body (codes "a\\ b x.o&:: %.o $(p #) ; \\\na&b $\\\n \\$x \\\n \\\n #\\\\\\\n") ∷ []
row_random_341 = refl

row_random_342 : reading (codes "${c}  ::X!= %.c\t#\\\\\\\n\r\n-x_9\\\n\t\\\r\n!=\\$x \r \r\naZ = 1\r\nex\r\n\r\n\t\\\n>q\\\n:::= $# a&b #\\\\\\\n\r\n \r\nvpath %.c a\r\n") ≡ Opaque (codes "${c}  ::X!= %.c\t#\\\\\\\n") ∷ Opaque (codes "-x_9\\\n\t\\\r\n!=\\$x \r ") ∷ Assign (Sets [] (codes "aZ") Recursive (codes "1")) ∷ Opaque (codes "ex") ∷ Opaque (codes "\t\\\n>q\\\n:::= $# a&b #\\\\\\\n") ∷ Directive (codes "vpath %.c a") ∷ []
row_random_342 = refl

row_random_343 : reading (codes "a\\\n\t\\\r\n-include2:t \r\n |\\\nendef\0\r\n${c}  &: # \\\r\n \\\n\t$x : # \r\nb \t.PHONY:  ; b# \\\r\n") ≡ Header ((codes "a") ∷ (codes "-include2") ∷ []) SingleColon [] ((codes "t") ∷ []) [] None ∷ Opaque (codes " |\\\nendef\0") ∷ Header ((codes "${c}") ∷ []) GroupedColon [] [] [] None ∷ Header ((codes "b") ∷ (codes ".PHONY") ∷ []) SingleColon [] [] [] (Some (codes " b# \\")) ∷ []
row_random_343 = refl

row_random_344 : reading (codes "CC?= %.c \ndefine :=\\\n\t\\\r\n # \r\n\t\n #\\\\\n>\\\n") ≡ Assign (Sets [] (codes "CC") Conditional (codes "%.c")) ∷ Assign (Sets [] (codes "define") Simple []) ∷ Opaque (codes ">\\") ∷ []
row_random_344 = refl

row_random_345 : reading (codes "\t\\\n\r\n") ≡ []
row_random_345 = refl

row_random_346 : reading (codes "> \r\n ::=\\x.o  #\r\\") ≡ Opaque (codes "> ") ∷ Opaque (codes " ::=\\x.o  #\r\\") ∷ []
row_random_346 = refl

row_random_347 : reading (codes ".RECIPEPREFIX = >\r\n\\ :\\\r\n.PHONY\\\n\t|a&b # \r\r\n{b\\\n\t\\\r\n::\\\n\\\noverride \\\r\n override  :\n\t$$\\\n\t\r\n$(q:;=|)\\\n:: pr?ivate ifdef?= $(m \\\n n) #\\\\\r\n$(f {)::: \\\n \\\n t $(f {) \r\n\ta \\\n\tb\r\n %.c :b\\\n\r\ntecho a # b\r\n ") ≡ Assign (Sets [] (codes ".RECIPEPREFIX") Recursive (codes ">")) ∷ Opaque (codes "\\ :\\\r\n.PHONY\\\n\t|a&b # \r") ∷ Rough (codes "{b\\\n\t\\\r\n::\\\n\\\noverride \\\r\n override  :") ∷ Opaque (codes "\t$$\\\n\t") ∷ Rough (codes "$(q:;=|)\\\n:: pr?ivate ifdef?= $(m \\\n n) #\\\\") ∷ Rough (codes "$(f {)::: \\\n \\\n t $(f {) ") ∷ Opaque (codes "\ta \\\n\tb") ∷ Header ((codes "%.c") ∷ []) SingleColon [] ((codes "b") ∷ []) [] None ∷ Opaque (codes "techo a # b") ∷ []
row_random_347 = refl

row_random_348 : reading [] ≡ []
row_random_348 = refl

row_random_349 : reading (codes "t: $(s\\) \n\ty\r\nendef # c\nifdef ::= \\\n\\$x$( \n>x\na  foo : export  $(X)+= $t \na.b \\\n  := \\# $$ a\\  \n") ≡ Header ((codes "t") ∷ []) SingleColon [] ((codes "$(s\\)") ∷ []) [] None ∷ Recipe (codes "y") ∷ Opaque (codes "endef # c") ∷ Assign (Sets [] (codes "ifdef") PosixSimple (codes "\\$x$( ")) ∷ Opaque (codes ">x") ∷ TargetAssign ((codes "a") ∷ (codes "foo") ∷ []) SingleColon (Sets (Export ∷ []) (codes "$(X)") Append (codes "$t")) ∷ Assign (Sets [] (codes "a.b") Simple (codes "\\# $$ a\\ ")) ∷ []
row_random_349 = refl

row_random_350 : reading (codes "ifdef\\\nB\n\ta$\n${c}\t-include2:  | $(a b)\\\r\n$(a b) \n #c \\\n d\n") ≡ If (codes "ifdef\\\nB") ∷ Opaque (codes "\ta$") ∷ Header ((codes "${c}") ∷ (codes "-include2") ∷ []) SingleColon [] [] ((codes "$(a b)") ∷ (codes "$(a b)") ∷ []) None ∷ []
row_random_350 = refl

row_random_351 : reading (codes " # c\nfoo: x.o -include2\n.define Q\n\t \n \\\n\tifdef\\\nB\n$(f {):$(s\\) \\\r\n :c foo\t$(f {)\t\n\tx\ta;\\\\\n>a\\\r\n>b\n$$ : -include2 #\\\\\n\\\n#\nexport!") ≡ Header ((codes "foo") ∷ []) SingleColon [] ((codes "x.o") ∷ (codes "-include2") ∷ []) [] None ∷ Opaque (codes ".define Q") ∷ Opaque (codes "\t ") ∷ If (codes " \\\n\tifdef\\\nB") ∷ Header ((codes "$(f {)") ∷ []) SingleColon ((codes "$(s\\)") ∷ []) ((codes "c") ∷ (codes "foo") ∷ (codes "$(f {)") ∷ []) [] None ∷ Recipe (codes "x\ta;\\\\") ∷ Opaque (codes ">a\\\r\n>b") ∷ Header ((codes "$$") ∷ []) SingleColon [] ((codes "-include2") ∷ []) [] None ∷ Opaque (codes "export!") ∷ []
row_random_351 = refl

row_random_352 : reading (codes "a\\b= $(f {)# c\n%.c :%.c c # \\\n") ≡ Assign (Sets [] (codes "a\\b") Recursive (codes "$(f {)")) ∷ Header ((codes "%.c") ∷ []) SingleColon [] ((codes "%.c") ∷ (codes "c") ∷ []) [] None ∷ []
row_random_352 = refl

row_random_353 : reading (codes "ifdef=\\\n\t2 3 a&b \n.a\\\n\\\n\t\n") ≡ Assign (Sets [] (codes "ifdef") Recursive (codes "2 3 a&b")) ∷ Opaque (codes ".a\\\n\\\n\t") ∷ []
row_random_353 = refl

row_random_354 : reading (codes ".RECIPEPREFIX = X\n") ≡ Assign (Sets [] (codes ".RECIPEPREFIX") Recursive (codes "X")) ∷ []
row_random_354 = refl

row_random_355 : reading (codes "a&b\ta : \ta&b \nCC?=\\\n${g(} #c \\\n d") ≡ Header ((codes "a&b") ∷ (codes "a") ∷ []) SingleColon [] ((codes "a&b") ∷ []) [] None ∷ Assign (Sets [] (codes "CC") Conditional (codes "${g(}")) ∷ []
row_random_355 = refl

row_random_356 : reading (codes ".RECIPEPREFIX = $$\n+>\n|;& +\\\n&&\\\n\n\t\\\n$(s\\) \t.PHONY: ${g(}\\\\\\\n$x\tfoo \t|  \nfoo\t${c}: \\\na |$$ \n>endef") ≡ Assign (Sets [] (codes ".RECIPEPREFIX") Recursive (codes "$$")) ∷ Opaque (codes "+>") ∷ Opaque (codes "|;& +\\\n&&\\\n") ∷ Opaque (codes "\t\\\n$(s\\) \t.PHONY: ${g(}\\\\\\\n$x\tfoo \t|  ") ∷ Rough (codes "foo\t${c}: \\\na |$$ ") ∷ Opaque (codes ">endef") ∷ []
row_random_356 = refl

row_random_357 : reading (codes "# c\r\n\ty\r\noverride \\\r\n Y!  ::= \\\n  $$ a&b \n") ≡ Opaque (codes "\ty") ∷ Assign (Sets (Override ∷ []) (codes "Y!") PosixSimple (codes "$$ a&b")) ∷ []
row_random_357 = refl

row_random_358 : reading (codes ".RE\t\\\nCIPEPREFIX = t\n+${\r\n>{:|\\=b|\\\n\nadefine \rQ\n\t#c \\\n d\n.RECIPEPREFIX = \\x\n\t\n\tdefine Q\nc: \\\n.PHONY\t") ≡ Opaque (codes ".RE\t\\\nCIPEPREFIX = t") ∷ Opaque (codes "+${") ∷ Rough (codes ">{:|\\=b|\\\n") ∷ Opaque (codes "adefine \rQ") ∷ Opaque (codes "\t#c \\\n d") ∷ Assign (Sets [] (codes ".RECIPEPREFIX") Recursive (codes "\\x")) ∷ DefineHead (codes "\tdefine Q") ∷ Body (codes "c: \\\n.PHONY\t") ∷ []
row_random_358 = refl

row_random_359 : reading (codes " \\\n\tload x\r\n\t#c\r\nb&:   \r\n\ta\\\r\n>b\r\n\tZ = 1\nendef # c\r\n") ≡ Directive (codes " \\\n\tload x") ∷ Header ((codes "b") ∷ []) GroupedColon [] [] [] None ∷ Recipe (codes "a\\\r\n>b") ∷ Recipe (codes "Z = 1") ∷ Opaque (codes "endef # c") ∷ []
row_random_359 = refl

row_random_360 : reading (codes "\\+=\\a$\ninclude a\n # \r\n\t\\\n%.c: b ;  a\\  t \\\n \\\n ${g(}\n\ta \\\n\tb\n\t\\\n\ndefine \n.RECIPEPREFIX\\\r\n+=${u\\\n\\\n") ≡ Assign (Sets [] (codes "\\+") Recursive (codes "\\a$")) ∷ Directive (codes "include a") ∷ Opaque (codes "\t\\\n%.c: b ;  a\\  t \\\n \\\n ${g(}") ∷ Opaque (codes "\ta \\\n\tb") ∷ Opaque (codes "\t\\\n") ∷ DefineHead (codes "define ") ∷ Body (codes ".RECIPEPREFIX\\\r\n+=${u\\\n\\") ∷ []
row_random_360 = refl

row_random_361 : reading (codes "foo: b %.c\r\n>\r\n-include2 :$(q:;=|)\t;\n>endef\n\tifdef Z\r\n\t\\\n\r\n\t.PHONY $(p #) &: $(f {)|\t#\0\r\na : \\\n  $(q:;=|): %.o $(p # \t$(p #) \\\n  \r\nb &:: x.o \\\n\n\ta\\\\\r\nb \t%|.o &: a.b :=\\$x \r\n") ≡ Header ((codes "foo") ∷ []) SingleColon [] ((codes "b") ∷ (codes "%.c") ∷ []) [] None ∷ Opaque (codes ">") ∷ Header ((codes "-include2") ∷ []) SingleColon [] ((codes "$(q:;=|)") ∷ []) [] (Some []) ∷ Opaque (codes ">endef") ∷ Opaque (codes "\tifdef Z") ∷ Opaque (codes "\t\\\n") ∷ Opaque (codes "\t.PHONY $(p #) &: $(f {)|\t#\0") ∷ Rough (codes "a : \\\n  $(q:;=|): %.o $(p # \t$(p #) \\\n  ") ∷ Header ((codes "b") ∷ []) GroupedDoubleColon [] ((codes "x.o") ∷ []) [] None ∷ Recipe (codes "a\\\\") ∷ Rough (codes "b \t%|.o &: a.b :=\\$x ") ∷ []
row_random_361 = refl

row_random_362 : reading (codes "endif #b c\nifeq (a,$(b\nX\t\\\n}&define\\X\nt :: X$  += \n") ≡ Opaque (codes "endif #b c") ∷ If (codes "ifeq (a,$(b") ∷ Opaque (codes "X\t\\\n}&define\\X") ∷ TargetAssign ((codes "t") ∷ []) DoubleColon (Sets [] (codes "X$ ") Append []) ∷ []
row_random_362 = refl

row_random_363 : reading (codes ".RECIPEPREFI}= %\nfoo: \nendif #\nifneq") ≡ Assign (Sets [] (codes ".RECIPEPREFI}") Recursive (codes "%")) ∷ Header ((codes "foo") ∷ []) SingleColon [] [] [] None ∷ Opaque (codes "endif #") ∷ If (codes "ifneq") ∷ []
row_random_363 = refl

row_random_364 : reading (codes "endef != \nendef\nfoo: a&b ${c}\n\ta\\\\\n#\n>$(\n b &:  \n") ≡ Assign (Sets [] (codes "endef") Shell []) ∷ Opaque (codes "endef") ∷ Header ((codes "foo") ∷ []) SingleColon [] ((codes "a&b") ∷ (codes "${c}") ∷ []) [] None ∷ Recipe (codes "a\\\\") ∷ Opaque (codes ">$(") ∷ Header ((codes "b") ∷ []) GroupedColon [] [] [] None ∷ []
row_random_364 = refl

row_random_365 : reading (codes "\techo a # b\nt  $x endef: $(f {): $$ ") ≡ Opaque (codes "\techo a # b") ∷ Header ((codes "t") ∷ (codes "$x") ∷ (codes "endef") ∷ []) SingleColon ((codes "$(f {)") ∷ []) ((codes "$$") ∷ []) [] None ∷ []
row_random_365 = refl

row_random_366 : reading (codes "\t\\\n\r\nt1::= t\r\n. \n\tdefine Q\r\na&b \tx: %.o $$\t$(f {)\n$\r\n\t\\\n\r\n") ≡ Assign (Sets [] (codes "t1") PosixSimple (codes "t")) ∷ Opaque (codes ". ") ∷ Opaque (codes "\tdefine Q") ∷ Header ((codes "a&b") ∷ (codes "x") ∷ []) SingleColon [] ((codes "%.o") ∷ (codes "$$") ∷ (codes "$(f {)") ∷ []) [] None ∷ Opaque (codes "$") ∷ Opaque (codes "\t\\\n") ∷ []
row_random_366 = refl

row_random_367 : reading (codes "\ta\\\r\n\t") ≡ Opaque (codes "\ta\\\r\n\t") ∷ []
row_random_367 = refl

row_random_368 : reading [] ≡ []
row_random_368 = refl

row_random_369 : reading (codes "\t\\\nifdef  :::= $(s\\)  : 2 3\n%.c :: ; \\\n${c} ${c}\t$( \nifdef A\n%.o &::-include2 \nx.o \\\nt: :  \n.RECIPEPREFIX = :\n") ≡ Assign (Sets [] (codes "ifdef") Immediate (codes "$(s\\)  : 2 3")) ∷ Header ((codes "%.c") ∷ []) DoubleColon [] [] [] (Some (codes " \\\n${c} ${c}\t$( ")) ∷ If (codes "ifdef A") ∷ Header ((codes "%.o") ∷ []) GroupedDoubleColon [] ((codes "-include2") ∷ []) [] None ∷ Rough (codes "x.o \\\nt: :  ") ∷ Assign (Sets [] (codes ".RECIPEPREFIX") Recursive (codes ":")) ∷ []
row_random_369 = refl

row_random_370 : reading (codes "override+= \\\r\n  \n:X ::=a\\  %.c #c \\\n d") ≡ Assign (Sets [] (codes "override") Append []) ∷ TargetAssign [] SingleColon (Sets [] (codes "X") PosixSimple (codes "a\\  %.c")) ∷ []
row_random_370 = refl

row_random_371 : reading [] ≡ []
row_random_371 = refl

row_random_372 : reading (codes "endef # c\nendef\r\nt1::=  # x ; y : z = 1\r\ndefine  ${g(}:${c} b \r\n\telse\r\n.RECIPEPREFIX=\\\n>>\nfoo:\\\n\\\n.PHONY\n\ta\\\r\n>b\n.y\r\r\n") ≡ Opaque (codes "endef # c") ∷ Opaque (codes "endef") ∷ Assign (Sets [] (codes "t1") PosixSimple []) ∷ DefineHead (codes "define  ${g(}:${c} b ") ∷ Body (codes "\telse") ∷ Body (codes ".RECIPEPREFIX=\\\n>>") ∷ Body (codes "foo:\\\n\\\n.PHONY") ∷ Body (codes "\ta\\\r\n>b") ∷ Body (codes ".y\r") ∷ []
row_random_372 = refl

row_random_373 : reading (codes "${c} &: $(a b) foo\\\n#c \\\n d\r\n\telse\r\n") ≡ Header ((codes "${c}") ∷ []) GroupedColon [] ((codes "$(a b)") ∷ (codes "foo") ∷ []) [] None ∷ Recipe (codes "else") ∷ []
row_random_373 = refl

row_random_374 : reading (codes ".RECIPEPREFIX = c\r\nfoo: ${g(}\n>$(\nt1\t:::=  \\\n \\\n \r\nifndef X # c\r\n%.o &:$(s\\) $(a b) $(q:;=|) |$(s\\)\r\n") ≡ Assign (Sets [] (codes ".RECIPEPREFIX") Recursive (codes "c")) ∷ Header ((codes "foo") ∷ []) SingleColon [] ((codes "${g(}") ∷ []) [] None ∷ Opaque (codes ">$(") ∷ Assign (Sets [] (codes "t1") Immediate []) ∷ If (codes "ifndef X # c") ∷ Rough (codes "%.o &:$(s\\) $(a b) $(q:;=|) |$(s\\)") ∷ []
row_random_374 = refl

row_random_375 : reading (codes ".RECIPEPREFIX = c\n") ≡ Assign (Sets [] (codes ".RECIPEPREFIX") Recursive (codes "c")) ∷ []
row_random_375 = refl

row_random_376 : reading (codes ".RECIPEPREFIX = e\na: foo $(f {)\n\t\n# c\nta \\\n\tb\ndefine!= x.o -include2\n\tprivate\\\n\t\\\r\nX += 2 3 %.ca\\:b\\\r\n\nifndef X # c\n-x_9 ?=  \\\n \\\n \ne$(\nt1 += c \n") ≡ Assign (Sets [] (codes ".RECIPEPREFIX") Recursive (codes "e")) ∷ Header ((codes "a") ∷ []) SingleColon [] ((codes "foo") ∷ (codes "$(f {)") ∷ []) [] None ∷ Opaque (codes "ta \\\n\tb") ∷ Assign (Sets [] (codes "define") Shell (codes "x.o -include2")) ∷ Assign (Sets (Private ∷ []) (codes "X") Append (codes "2 3 %.ca\\:b")) ∷ If (codes "ifndef X # c") ∷ Assign (Sets [] (codes "-x_9") Conditional []) ∷ Opaque (codes "e$(") ∷ Assign (Sets [] (codes "t1") Append (codes "c")) ∷ []
row_random_376 = refl

row_random_377 : reading (codes "$(q:;=|): $(p #) .PHONY b # c\nx.o y: x.\ty\r\nt#c\n \\\n\n\\#x+= \\\r\n foo | \\\n \\\n ${g(} \n# \r\nA := =c \n!: \t\\\n\0(\\\\\n\ndefine E # c\nexport \t-x_9 := \\$x $(f {)# \r\n") ≡ Header ((codes "$(q:;=|)") ∷ []) SingleColon [] ((codes "$(p #)") ∷ (codes ".PHONY") ∷ (codes "b") ∷ []) [] None ∷ Header ((codes "x.o") ∷ (codes "y") ∷ []) SingleColon [] ((codes "x.") ∷ (codes "y") ∷ []) [] None ∷ Opaque (codes "t#c") ∷ Assign (Sets [] (codes "\\#x") Append (codes "foo | ${g(}")) ∷ Assign (Sets [] (codes "A") Simple (codes "=c")) ∷ Opaque (codes "!: \t\\\n\0(\\\\") ∷ DefineHead (codes "define E # c") ∷ Body (codes "export \t-x_9 := \\$x $(f {)# ") ∷ []
row_random_377 = refl

row_random_378 : reading (codes "t1 :::= \n $\\\\\n:?b?a:|={\r\n\t\\\n${g(}:: %.o -include2\\\n\r\n>${c} &: CC \\\n \\\n ::=.PHONY \n b&:: \r\n\ta\\\r\n>b\nA += $# \\\n \\\n $(a b)  =#\r\n\ta\\\\") ≡ Assign (Sets [] (codes "t1") Immediate []) ∷ Opaque (codes " $\\\\") ∷ Rough (codes ":?b?a:|={") ∷ Recipe (codes "\\\n${g(}:: %.o -include2\\\n") ∷ Rough (codes ">${c} &: CC \\\n \\\n ::=.PHONY ") ∷ Header ((codes "b") ∷ []) GroupedDoubleColon [] [] [] None ∷ Recipe (codes "a\\\r\n>b") ∷ Assign (Sets [] (codes "A") Append (codes "$# $(a b)  =")) ∷ Opaque (codes "\ta\\\\") ∷ []
row_random_378 = refl

row_random_379 : reading (codes "$(f {)&:: \tc :$(s\\) \\\n \\\n foo \\\n  ${c} | \nendef x\n") ≡ Rough (codes "$(f {)&:: \tc :$(s\\) \\\n \\\n foo \\\n  ${c} | ") ∷ Opaque (codes "endef x") ∷ []
row_random_379 = refl

row_random_380 : reading (codes "foo: \n>a \\\n\tb\n>endif\n>$(\r\n\ta\\\r\n>b\r\n") ≡ Header ((codes "foo") ∷ []) SingleColon [] [] [] None ∷ Opaque (codes ">a \\\n\tb") ∷ Opaque (codes ">endif") ∷ Opaque (codes ">$(") ∷ Opaque (codes "\ta\\\r\n>b") ∷ []
row_random_380 = refl

row_random_381 : reading (codes ">\\\n\n \\\n\n") ≡ Opaque (codes ">\\\n") ∷ []
row_random_381 = refl

row_random_382 : reading (codes "export X\n\t\\\nY\t+=\\\r\n \n\tdefine Q\n.define Q\ne \n\ta\\\nifdef A") ≡ Directive (codes "export X") ∷ Assign (Sets [] (codes "Y") Append []) ∷ DefineHead (codes "\tdefine Q") ∷ Body (codes ".define Q") ∷ Body (codes "e ") ∷ Body (codes "\ta\\\nifdef A") ∷ []
row_random_382 = refl

row_random_383 : reading (codes "\ty\r\n\nprivate private override \\>  ::= : \r\n$(s\\) :::\\\r\n$(){)\r\n\r\nay\r\r\n$(s\\)::: x.o\\\n\t\\\r\n$(a b) \t%.o \r\n\ta\\\r\na&b :::c|\\\n\\\n \\\n  #\0\r\net: u\r\n") ≡ Opaque (codes "\ty") ∷ Assign (Sets (Private ∷ Private ∷ Override ∷ []) (codes "\\>") PosixSimple (codes ":")) ∷ Rough (codes "$(s\\) :::\\\r\n$(){)") ∷ Opaque (codes "ay\r") ∷ Rough (codes "$(s\\)::: x.o\\\n\t\\\r\n$(a b) \t%.o ") ∷ Recipe (codes "a\\\r\na&b :::c|\\\n\\\n \\\n  #\0") ∷ Header ((codes "et") ∷ []) SingleColon [] ((codes "u") ∷ []) [] None ∷ []
row_random_383 = refl

row_random_384 : reading (codes "\t\\\nX := \\\n \\\n \0\\\r\n\n>endef ::=\t\\$x | b\t#\nX \\\n \\\n ?=  #\\\\\n$$  &:$(f {)\tx.o| $(s\\)\n\\\n# \r\nfoo::: foo\\\n\\\n${c}\t$x \t\nendif # c\n\\\nexport private define F \\\n\nt\\\n") ≡ Opaque (codes "\t\\\nX := \\\n \\\n \0\\\r\n") ∷ Assign (Sets [] (codes ">endef") PosixSimple (codes "\\$x | b")) ∷ Assign (Sets [] (codes "X") Conditional []) ∷ Rough (codes "$$  &:$(f {)\tx.o| $(s\\)") ∷ Rough (codes "foo::: foo\\\n\\\n${c}\t$x \t") ∷ Opaque (codes "endif # c") ∷ DefineHead (codes "\\\nexport private define F \\\n") ∷ Body (codes "t\\") ∷ []
row_random_384 = refl

row_random_385 : reading (codes "$$ : b\\\n\t: $(p #)# \r\nfoo: b\nelse+ifdef Q\n\\\n# \\\no-$(a b) :::=\\$x = -include2\\\r\n#\\\\\n") ≡ Header ((codes "$$") ∷ []) SingleColon ((codes "b") ∷ []) ((codes "$(p #)") ∷ []) [] None ∷ Header ((codes "foo") ∷ []) SingleColon [] ((codes "b") ∷ []) [] None ∷ Opaque (codes "else+ifdef Q") ∷ []
row_random_385 = refl

row_random_386 : reading (codes "X ?=  %.c  : # x ; y : z = 1\r\ndefine = \\\n #\0\r\nendif\r\n%.c $(s\\) :\t$(s\\)\\\\\\\n# \r\r\nx.o y: \n>$(\ntendif\r\na: \nifeq (a,$(b\n\tifdef Z\n\tt: u\r\n") ≡ Assign (Sets [] (codes "X") Conditional (codes "%.c  :")) ∷ Opaque (codes "define = \\\n #\0") ∷ Opaque (codes "endif") ∷ Opaque (codes "%.c $(s\\) :\t$(s\\)\\\\\\\n# \r") ∷ Header ((codes "x.o") ∷ (codes "y") ∷ []) SingleColon [] [] [] None ∷ Opaque (codes ">$(") ∷ Opaque (codes "tendif") ∷ Header ((codes "a") ∷ []) SingleColon [] [] [] None ∷ If (codes "ifeq (a,$(b") ∷ Recipe (codes "ifdef Z") ∷ Recipe (codes "t: u") ∷ []
row_random_386 = refl

row_random_387 : reading (codes "ovbrride override \\\r\n define = $\\\n  #\nx.o&:>q \t+= \t$$\\\n\t$# \na: \n>endef\nY+= $(a 1 \nendef\n\nx.o y: $(p #)\n\t\\\n\n\ta\\\r\n>\n>ifdef Z\n") ≡ Opaque (codes "ovbrride override \\\r\n define = $\\\n  #") ∷ Rough (codes "x.o&:>q \t+= \t$$\\\n\t$# ") ∷ Header ((codes "a") ∷ []) SingleColon [] [] [] None ∷ Opaque (codes ">endef") ∷ Assign (Sets [] (codes "Y") Append (codes "$(a 1 ")) ∷ Opaque (codes "endef") ∷ Header ((codes "x.o") ∷ (codes "y") ∷ []) SingleColon [] ((codes "$(p #)") ∷ []) [] None ∷ Recipe (codes "\\\n") ∷ Recipe (codes "a\\\r\n>") ∷ Opaque (codes ">ifdef Z") ∷ []
row_random_387 = refl

row_random_388 : reading (codes ">a\\\r\n>b\nfoo:%.o a a \r\n-x_9 +=\r\n\telse") ≡ Opaque (codes ">a\\\r\n>b") ∷ Header ((codes "foo") ∷ []) SingleColon [] ((codes "%.o") ∷ (codes "a") ∷ (codes "a") ∷ []) [] None ∷ Assign (Sets [] (codes "-x_9") Append []) ∷ Opaque (codes "\telse") ∷ []
row_random_388 = refl

row_random_389 : reading (codes "$=  \n(endef\\\\\n?$}\n$(p #) $(f {) &:$x \t$(s\\)\t${c}# x ; y : z = 1\n>q \t::= \\\r\n\na:::  #\\\\\nendef # c\n\\\nifndef X # c\n.a\\\n$x %.c: : a&b  $(f {)\tfoo") ≡ Opaque (codes "$=  ") ∷ Opaque (codes "(endef\\\\") ∷ Opaque (codes "?$}") ∷ Header ((codes "$(p #)") ∷ (codes "$(f {)") ∷ []) GroupedColon [] ((codes "$x") ∷ (codes "$(s\\)") ∷ (codes "${c}") ∷ []) [] None ∷ Assign (Sets [] (codes ">q") PosixSimple []) ∷ Rough (codes "a:::  #\\\\") ∷ Opaque (codes "endef # c") ∷ If (codes "\\\nifndef X # c") ∷ Rough (codes ".a\\\n$x %.c: : a&b  $(f {)\tfoo") ∷ []
row_random_389 = refl

row_random_390 : reading (codes "\tx\nx.o&:\\\n\t\\\r\n$(a b) : -in=lude2 a # \\") ≡ Opaque (codes "\tx") ∷ Rough (codes "x.o&:\\\n\t\\\r\n$(a b) : -in=lude2 a # \\") ∷ []
row_random_390 = refl

row_random_391 : reading (codes "Y+= $(p #) -include2 \r\nendef x\r\noverride:=  \r\n\tZ = 1\r\n # c\r\n|\\\n\r\n\n\t\n&(\r\n") ≡ Assign (Sets [] (codes "Y") Append (codes "$(p #) -include2")) ∷ Opaque (codes "endef x") ∷ Assign (Sets [] (codes "override") Simple []) ∷ Assign (Sets [] (codes "Z") Recursive (codes "1")) ∷ Opaque (codes "|\\\n") ∷ Opaque (codes "\t") ∷ Opaque (codes "&(") ∷ []
row_random_391 = refl

row_random_392 : reading (codes " override X\n>overri) += ${c} \\# \na: $(f {)\n\n.RECIPEPREFIX =\\\n\n.$(\n\\\n=# \\\n") ≡ Opaque (codes " override X") ∷ Assign (Sets [] (codes ">overri)") Append (codes "${c} \\#")) ∷ Header ((codes "a") ∷ []) SingleColon [] ((codes "$(f {)") ∷ []) [] None ∷ Assign (Sets [] (codes ".RECIPEPREFIX") Recursive []) ∷ Opaque (codes ".$(") ∷ Opaque (codes "\\\n=# \\") ∷ []
row_random_392 = refl

row_random_393 : reading (codes "$$ &:: \\\r\n $(q:;=|) $(p #) | \t$$\r\n\techo a # b\r\n") ≡ Header ((codes "$$") ∷ []) GroupedDoubleColon [] ((codes "$(q:;=|)") ∷ (codes "$(p #)") ∷ []) ((codes "$$") ∷ []) None ∷ Recipe (codes "echo a # b") ∷ []
row_random_393 = refl

row_random_394 : reading (codes ">y\r\n\tendef\na: \nexport\n%.c\tx.o:$(q:;=|) \t$(a b)  $x\t\nbb=\ndefine\n&!\0\t\0\\$\n\\\\\n$)\n$$:%.o | t# \\\nt &: ${g(} \\\n  : a&b|  ") ≡ Opaque (codes ">y") ∷ Opaque (codes "\tendef") ∷ Header ((codes "a") ∷ []) SingleColon [] [] [] None ∷ Directive (codes "export") ∷ Header ((codes "%.c") ∷ (codes "x.o") ∷ []) SingleColon [] ((codes "$(q:;=|)") ∷ (codes "$(a b)") ∷ (codes "$x") ∷ []) [] None ∷ Assign (Sets [] (codes "bb") Recursive []) ∷ DefineHead (codes "define") ∷ Body (codes "&!\0\t\0\\$") ∷ Body (codes "\\\\") ∷ Body (codes "$)") ∷ Body (codes "$$:%.o | t# \\\nt &: ${g(} \\\n  : a&b|  ") ∷ []
row_random_394 = refl

row_random_395 : reading (codes "\tCC += \nay\r\n+: \r\n>endef\n$$\\\r\n: : $(f {)\tt\r\nx.o :\tx.o:a t $(s\\)\r\n%.c :  \r\n") ≡ Assign (Sets [] (codes "CC") Append []) ∷ Opaque (codes "ay") ∷ Header ((codes "+") ∷ []) SingleColon [] [] [] None ∷ Opaque (codes ">endef") ∷ Rough (codes "$$\\\r\n: : $(f {)\tt") ∷ Header ((codes "x.o") ∷ []) SingleColon ((codes "x.o") ∷ []) ((codes "a") ∷ (codes "t") ∷ (codes "$(s\\)") ∷ []) [] None ∷ Header ((codes "%.c") ∷ []) SingleColon [] [] [] None ∷ []
row_random_395 = refl

row_random_396 : reading (codes "\techo a # b\n-include2&::$(a b) \t\n.PHONY: : $(a b) \t$(f {) %.c # \\\n # x ; y : z = 1\n\techo a # b\ntt: u") ≡ Opaque (codes "\techo a # b") ∷ Header ((codes "-include2") ∷ []) GroupedDoubleColon [] ((codes "$(a b)") ∷ []) [] None ∷ Rough (codes ".PHONY: : $(a b) \t$(f {) %.c # \\\n # x ; y : z = 1") ∷ Recipe (codes "echo a # b") ∷ Header ((codes "tt") ∷ []) SingleColon [] ((codes "u") ∷ []) [] None ∷ []
row_random_396 = refl

row_random_397 : reading (codes "foo: %.o\naendif\n\ta\\\n\ta \\\n\tb\n\telse\nt1 ?=\\\n\t\\\r\n$\\\n $x ; \n") ≡ Header ((codes "foo") ∷ []) SingleColon [] ((codes "%.o") ∷ []) [] None ∷ Opaque (codes "aendif") ∷ Opaque (codes "\ta\\\n\ta \\\n\tb") ∷ Opaque (codes "\telse") ∷ Assign (Sets [] (codes "t1") Conditional (codes "$ $x ;")) ∷ []
row_random_397 = refl

row_random_398 : reading (codes "X$   += \0\nifdef !=\0 \n") ≡ Opaque (codes "X$   += \0") ∷ Opaque (codes "ifdef !=\0 ") ∷ []
row_random_398 = refl

row_random_399 : reading (codes "export define\nx.o y: \n>t: u\nendif # c\n>a: .PHONY %.c\ta #c \\\n d\nx.o y: ${c} a&b\r") ≡ DefineHead (codes "export define") ∷ Body (codes "x.o y: ") ∷ Body (codes ">t: u") ∷ Body (codes "endif # c") ∷ Body (codes ">a: .PHONY %.c\ta #c \\\n d") ∷ Body (codes "x.o y: ${c} a&b\r") ∷ []
row_random_399 = refl

row_random_400 : reading (codes "\t#c\nendif\nfoo: \n\ta\\\r\n>b\n\ty\r\r\na: $$\n\ta \\\n\tb\r\n ${c} : a:${g(}\n$$:\\\n$(p #) \nfoo: -incl;ude2\n\tdefine Q\n#\n\r\na.b!= \\\n \\\n ${g(}\t#\0\r\n  $(f {): ;\r\n") ≡ Opaque (codes "endif") ∷ Header ((codes "foo") ∷ []) SingleColon [] [] [] None ∷ Recipe (codes "a\\\r\n>b") ∷ Recipe (codes "y\r") ∷ Header ((codes "a") ∷ []) SingleColon [] ((codes "$$") ∷ []) [] None ∷ Recipe (codes "a \\\n\tb") ∷ Header ((codes "${c}") ∷ []) SingleColon ((codes "a") ∷ []) ((codes "${g(}") ∷ []) [] None ∷ Header ((codes "$$") ∷ []) SingleColon [] ((codes "$(p #)") ∷ []) [] None ∷ Header ((codes "foo") ∷ []) SingleColon [] ((codes "-incl") ∷ []) [] (Some (codes "ude2")) ∷ Recipe (codes "define Q") ∷ Opaque (codes "a.b!= \\\n \\\n ${g(}\t#\0") ∷ Header ((codes "$(f {)") ∷ []) SingleColon [] [] [] (Some []) ∷ []
row_random_400 = refl

row_random_401 : reading (codes "aa\\\\\r\nifdef = x  y\\\\\\  ;\t\r\n-include2&: -include2 \t$$ \n\t# c\n\telse\r\n>endef x\r\nx.o y: ${g(}\n \\\n\tY\\\n\t\\\r\n?=$$\\\n\t\\\r\n\nelse ifdef Q\n>endif\r\n \r\noverride override A != \\\r\n  \r\n-include2 : : foo;  $\\\n a&b \r\n") ≡ Opaque (codes "aa\\\\") ∷ Assign (Sets [] (codes "ifdef") Recursive (codes "x  y\\\\\\  ;")) ∷ Header ((codes "-include2") ∷ []) GroupedColon [] ((codes "-include2") ∷ (codes "$$") ∷ []) [] None ∷ Recipe (codes "# c") ∷ Recipe (codes "else") ∷ Opaque (codes ">endef x") ∷ Header ((codes "x.o") ∷ (codes "y") ∷ []) SingleColon [] ((codes "${g(}") ∷ []) [] None ∷ Assign (Sets [] (codes "Y") Conditional (codes "$$")) ∷ Opaque (codes "else ifdef Q") ∷ Opaque (codes ">endif") ∷ Assign (Sets (Override ∷ Override ∷ []) (codes "A") Shell []) ∷ Rough (codes "-include2 : : foo;  $\\\n a&b ") ∷ []
row_random_401 = refl

row_random_402 : reading (codes " #\\\\\\\n\r\n\tb\\\n\\\n$(q:;=|)&:: $(p #)\\\r\n-include2 \ta|$(s\\)\t%.c # c\r\n.RECIPEPREFIX::=\\\n>\r\n%.o\t${g(}&::${g(} : \r\nifneq\r\naendef\r\n.PHONY: +$(p #)  foo ; $\\\n \r\n") ≡ Opaque (codes "\tb\\\n\\\n$(q:;=|)&:: $(p #)\\\r\n-include2 \ta|$(s\\)\t%.c # c") ∷ Assign (Sets [] (codes ".RECIPEPREFIX") PosixSimple (codes ">")) ∷ Rough (codes "%.o\t${g(}&::${g(} : ") ∷ If (codes "ifneq") ∷ Opaque (codes "aendef") ∷ Header ((codes ".PHONY") ∷ []) SingleColon [] ((codes "+$(p #)") ∷ (codes "foo") ∷ []) [] (Some (codes " $\\\n ")) ∷ []
row_random_402 = refl

row_random_403 : reading (codes "endef\r\nifndef X # c\r\nX+=\\\n # \\\r\n>a\\\\\r\n \r\n$(p #) :::\\\n\t\\\r\n$(a b) :$$ ${c}\t.PHONY ;  \n\t\n#\\\\\r\n\t$(q:;=|):%.c | b\t$$ \r\n\ta \\\n\tb\r\n$(X) :::=$$\r\n") ≡ Opaque (codes "endef") ∷ If (codes "ifndef X # c") ∷ Assign (Sets [] (codes "X") Append []) ∷ Rough (codes "$(p #) :::\\\n\t\\\r\n$(a b) :$$ ${c}\t.PHONY ;  ") ∷ Recipe [] ∷ Recipe (codes "$(q:;=|):%.c | b\t$$ ") ∷ Recipe (codes "a \\\n\tb") ∷ Assign (Sets [] (codes "$(X)") Immediate (codes "$$")) ∷ []
row_random_403 = refl

row_random_404 : reading (codes "${c}::: # x ; y : z = 1\r\n$x&::  $(q:;=|) a&b $(p #)\r\noverride  ::= ; \r\n\t \r\n$(a b)  .HONY:: \\\n  $x \\\n${g(} ${g(} \r\nY :::=  # x ; y : z = 1\r\n}\r\n") ≡ Rough (codes "${c}::: # x ; y : z = 1") ∷ Header ((codes "$x") ∷ []) GroupedDoubleColon [] ((codes "$(q:;=|)") ∷ (codes "a&b") ∷ (codes "$(p #)") ∷ []) [] None ∷ Assign (Sets [] (codes "override") PosixSimple (codes ";")) ∷ Header ((codes "$(a b)") ∷ (codes ".HONY") ∷ []) DoubleColon [] ((codes "$x") ∷ (codes "${g(}") ∷ (codes "${g(}") ∷ []) [] None ∷ Assign (Sets [] (codes "Y") Immediate []) ∷ Opaque (codes "}") ∷ []
row_random_404 = refl

row_random_405 : reading (codes "endif\noverride define .RECIPEPREFIX\r\n\r\nx.o y: $(s\\)\r\nfoo: \n \n>endef\necho a # b\r\na: \n#c \\\n d\r\n\t$(\nendef\t?= b ") ≡ Opaque (codes "endif") ∷ DefineHead (codes "override define .RECIPEPREFIX") ∷ Body [] ∷ Body (codes "x.o y: $(s\\)") ∷ Body (codes "foo: ") ∷ Body (codes " ") ∷ Body (codes ">endef") ∷ Body (codes "echo a # b") ∷ Body (codes "a: ") ∷ Body (codes "#c \\\n d") ∷ Body (codes "\t$(") ∷ Endef (codes "endef\t?= b ") ∷ []
row_random_405 = refl

row_random_406 : reading (codes ">\\\n\n\tdefine Q\r\nelse\n\t\\\n\r\n.RECIPEPREFIX+=>\n") ≡ Opaque (codes ">\\\n") ∷ Opaque (codes "\tdefine Q") ∷ Opaque (codes "else") ∷ Opaque (codes "\t\\\n") ∷ Assign (Sets [] (codes ".RECIPEPREFIX") Append (codes ">")) ∷ []
row_random_406 = refl

row_random_407 : reading (codes "private \tprivate t1 ?= x  y \n\tx\n$$ : \n>Z = 1\na.b =\\\r\na&b\\\n\n$(a b) $(f {) : %.c \\\n  a&b\tt \nifndef X # c\n\techo a # b\noverride .RECIPEPREFIX= :\n \\\n\t${g(} : $(a b) :  |  \\\n\n") ≡ Assign (Sets (Private ∷ Private ∷ []) (codes "t1") Conditional (codes "x  y")) ∷ Opaque (codes "\tx") ∷ Header ((codes "$$") ∷ []) SingleColon [] [] [] None ∷ Assign (Sets [] (codes ">Z") Recursive (codes "1")) ∷ Assign (Sets [] (codes "a.b") Recursive (codes "a&b")) ∷ Header ((codes "$(a b)") ∷ (codes "$(f {)") ∷ []) SingleColon [] ((codes "%.c") ∷ (codes "a&b") ∷ (codes "t") ∷ []) [] None ∷ If (codes "ifndef X # c") ∷ Recipe (codes "echo a # b") ∷ Assign (Sets (Override ∷ []) (codes ".RECIPEPREFIX") Recursive (codes ":")) ∷ Header ((codes "${g(}") ∷ []) SingleColon ((codes "$(a b)") ∷ []) [] [] None ∷ []
row_random_407 = refl

row_random_408 : reading (codes "${c} : a&b | \\\na&b $(s\\) \r\n\tifdef Z\r\n-include2 \\\n   &: a : a t ;$(a b) $(a b)\r\ntt: u\r\n$(q:;=|): $(s\\) \r\n\t\r\n$(q:;=|): $(q:;=|) fox.o\t%.c\r\n-include2&:$(p #)  ${c} \r\nendif\r\n") ≡ Header ((codes "${c}") ∷ []) SingleColon [] ((codes "a&b") ∷ []) ((codes "a&b") ∷ (codes "$(s\\)") ∷ []) None ∷ Recipe (codes "ifdef Z") ∷ Rough (codes "-include2 \\\n   &: a : a t ;$(a b) $(a b)") ∷ Header ((codes "tt") ∷ []) SingleColon [] ((codes "u") ∷ []) [] None ∷ Header ((codes "$(q:;=|)") ∷ []) SingleColon [] ((codes "$(s\\)") ∷ []) [] None ∷ Recipe [] ∷ Header ((codes "$(q:;=|)") ∷ []) SingleColon [] ((codes "$(q:;=|)") ∷ (codes "fox.o") ∷ (codes "%.c") ∷ []) [] None ∷ Header ((codes "-include2") ∷ []) GroupedColon [] ((codes "$(p #)") ∷ (codes "${c}") ∷ []) [] None ∷ Opaque (codes "endif") ∷ []
row_random_408 = refl

row_random_409 : reading (codes ".RECIPEPREFIX = .\r\n.RECIPEPREFIX :::=>\nprivate\\\n\t\\\r\na.b+= %.c \r\n\\\nvpath %.c a\na\\=  += $(f {) $(s)\\\n\t${c}\na: ${g(}\n\t\\\n\na#c\n>endif\r\na$(\n#\r\n") ≡ Assign (Sets [] (codes ".RECIPEPREFIX") Recursive (codes ".")) ∷ Assign (Sets [] (codes ".RECIPEPREFIX") Immediate (codes ">")) ∷ Assign (Sets (Private ∷ []) (codes "a.b") Append (codes "%.c")) ∷ Directive (codes "\\\nvpath %.c a") ∷ Assign (Sets [] (codes "a\\=") Append (codes "$(f {) $(s) ${c}")) ∷ Header ((codes "a") ∷ []) SingleColon [] ((codes "${g(}") ∷ []) [] None ∷ Opaque (codes "a#c") ∷ Opaque (codes ">endif") ∷ Opaque (codes "a$(") ∷ []
row_random_409 = refl

row_random_410 : reading (codes ".RECIPEPREFIX = a\na: \n\t\noverride ?=; c # c\n") ≡ Assign (Sets [] (codes ".RECIPEPREFIX") Recursive (codes "a")) ∷ Opaque (codes "a: ") ∷ Assign (Sets [] (codes "override") Conditional (codes "; c")) ∷ []
row_random_410 = refl

row_random_411 : reading (codes "foo: \n>ifdef Z\r\nendef :::=$ a\\\n\r\ndefine E # c\r\n>q =c\t#\\\\\r\n") ≡ Header ((codes "foo") ∷ []) SingleColon [] [] [] None ∷ Opaque (codes ">ifdef Z") ∷ Assign (Sets [] (codes "endef") Immediate (codes "$ a")) ∷ DefineHead (codes "define E # c") ∷ Body (codes ">q =c\t#\\\\") ∷ []
row_random_411 = refl

row_random_412 : reading (codes ".RECIPEPREFIX = a\r\nifneq\r\n\tifdef Z\r\n\telse\r\n$(a b) \t: ${c} foo \r\n\t\\\n\r\n%.c &::$(s\\)\\\r\n:  x.o foo\ta# \\\r\nexport private define D\r\n\ta\\\r\n>b\\\n") ≡ Assign (Sets [] (codes ".RECIPEPREFIX") Recursive (codes "a")) ∷ If (codes "ifneq") ∷ If (codes "\tifdef Z") ∷ Else (codes "\telse") ∷ Header ((codes "$(a b)") ∷ []) SingleColon [] ((codes "${c}") ∷ (codes "foo") ∷ []) [] None ∷ Rough (codes "%.c &::$(s\\)\\\r\n:  x.o foo\ta# \\\r\nexport private define D") ∷ Opaque (codes "\ta\\\r\n>b\\") ∷ []
row_random_412 = refl

row_random_413 : reading (codes "\techo a # b\n>endef # c\nc\t&: t : .PHONY $(s\\)\n\ta\\\n\ta\\\\\n%.c &:: x.o .PHONY | $(f {) $(u  \n") ≡ Opaque (codes "\techo a # b") ∷ Opaque (codes ">endef # c") ∷ Rough (codes "c\t&: t : .PHONY $(s\\)") ∷ Recipe (codes "a\\\n\ta\\\\") ∷ Rough (codes "%.c &:: x.o .PHONY | $(f {) $(u  ") ∷ []
row_random_413 = refl

row_random_414 : reading (codes "o-$(a b)=  \n#c \\\n d\n\n\\\\\n\nc : :${c} :  \nY :=t \n!$\\\\\n\t\\\\\n}(a=:$") ≡ Assign (Sets [] (codes "o-$(a b)") Recursive []) ∷ Opaque (codes "\\\\") ∷ Rough (codes "c : :${c} :  ") ∷ Assign (Sets [] (codes "Y") Simple (codes "t")) ∷ Opaque (codes "!$\\\\") ∷ Opaque (codes "\t\\\\") ∷ Assign (Sets [] (codes "}(a") Recursive (codes ":$")) ∷ []
row_random_414 = refl

row_random_415 : reading (codes ".RECIPEPREFIX = -\n\\ $x\\\n:: override::= $ 2 3# c\nendif # c\n\tt: u\na: \n\t \n$(s\\) : %.o ${c}  %.c ;a\\  \t\na: $(p #)\n$(p #)\\\r\n-include2 \\\n  &:a.b := a \\\n  \0 # \r\nX ::=%.o \nexport export X\\\n\t\\\r\n+= \\\n \\\n \\# # ") ≡ Assign (Sets [] (codes ".RECIPEPREFIX") Recursive (codes "-")) ∷ TargetAssign ((codes "\\ $x") ∷ []) DoubleColon (Sets [] (codes "override") PosixSimple (codes "$ 2 3")) ∷ Opaque (codes "endif # c") ∷ Header ((codes "t") ∷ []) SingleColon [] ((codes "u") ∷ []) [] None ∷ Header ((codes "a") ∷ []) SingleColon [] [] [] None ∷ Header ((codes "$(s\\)") ∷ []) SingleColon [] ((codes "%.o") ∷ (codes "${c}") ∷ (codes "%.c") ∷ []) [] (Some (codes "a\\  \t")) ∷ Header ((codes "a") ∷ []) SingleColon [] ((codes "$(p #)") ∷ []) [] None ∷ Opaque (codes "$(p #)\\\r\n-include2 \\\n  &:a.b := a \\\n  \0 # ") ∷ Assign (Sets [] (codes "X") PosixSimple (codes "%.o")) ∷ Assign (Sets (Export ∷ Export ∷ []) (codes "X") Append (codes "\\#")) ∷ []
row_random_415 = refl

row_random_416 : reading (codes "\\#x \\\n?= x  y t \r\nta\\\\\nifndef X # c") ≡ Assign (Sets [] (codes "\\#x") Conditional (codes "x  y t")) ∷ Opaque (codes "ta\\\\") ∷ If (codes "ifndef X # c") ∷ []
row_random_416 = refl

row_random_417 : reading (codes "$$: :.PHONY :x.o  a x.o\r\n") ≡ Rough (codes "$$: :.PHONY :x.o  a x.o") ∷ []
row_random_417 = refl

row_random_418 : reading (codes "endif\n>q \\\n  :::=-include2 a&b \n") ≡ Opaque (codes "endif") ∷ Assign (Sets [] (codes ">q") Immediate (codes "-include2 a&b")) ∷ []
row_random_418 = refl

row_random_419 : reading [] ≡ []
row_random_419 = refl

row_random_420 : reading (codes "\t \n>\\\n\n") ≡ Opaque (codes ">\\\n") ∷ []
row_random_420 = refl

row_random_421 : reading (codes ">b &: \nfoo: %.o \tt \n\tx\n\ta\\\\\n\t \ndefine D\nendef += \t # \r\nfoo: \ntt: u\n\tdefine Q\n-include2 \n  :\\\nprivate \ta.b::=\\\n\\\n\n\t \nX\r)=:\n") ≡ Header ((codes ">b") ∷ []) GroupedColon [] [] [] None ∷ Header ((codes "foo") ∷ []) SingleColon [] ((codes "%.o") ∷ (codes "t") ∷ []) [] None ∷ Recipe (codes "x") ∷ Recipe (codes "a\\\\") ∷ Recipe (codes " ") ∷ DefineHead (codes "define D") ∷ Endef (codes "endef += \t # ") ∷ Header ((codes "foo") ∷ []) SingleColon [] [] [] None ∷ Header ((codes "tt") ∷ []) SingleColon [] ((codes "u") ∷ []) [] None ∷ Recipe (codes "define Q") ∷ Opaque (codes "-include2 ") ∷ TargetAssign [] SingleColon (Sets (Private ∷ []) (codes "a.b") PosixSimple []) ∷ Opaque (codes "X\r)=:") ∷ []
row_random_421 = refl

row_random_422 : reading (codes "override=$\\\r\n \\\n  \r\n.a \\\n\tb\r\nx.o y: \n\t$(\n\\\n\t\r!\n") ≡ Assign (Sets [] (codes "override") Recursive (codes "$ ")) ∷ Opaque (codes ".a \\\n\tb") ∷ Header ((codes "x.o") ∷ (codes "y") ∷ []) SingleColon [] [] [] None ∷ Recipe (codes "$(") ∷ Opaque (codes "\\\n\t\r!") ∷ []
row_random_422 = refl

row_random_423 : reading (codes " :: A::=a \n") ≡ TargetAssign [] DoubleColon (Sets [] (codes "A") PosixSimple (codes "a")) ∷ []
row_random_423 = refl

row_random_424 : reading (codes "${g(}&:\\\r\nX += $(s\\)\\\n\\\n\r\n\telse\r\n\tx\r\n.RECIPEPREFIX ::=:\na&b&:$$  %.c #\0\r\n\tendif # c\n\t\\\n$x ::: .PHONY : .PHONY#c \\\n d\n") ≡ Rough (codes "${g(}&:\\\r\nX += $(s\\)\\\n\\\n") ∷ Recipe (codes "else") ∷ Recipe (codes "x") ∷ Assign (Sets [] (codes ".RECIPEPREFIX") PosixSimple (codes ":")) ∷ Opaque (codes "a&b&:$$  %.c #\0") ∷ Opaque (codes "\tendif # c") ∷ Rough (codes "\t\\\n$x ::: .PHONY : .PHONY#c \\\n d") ∷ []
row_random_424 = refl

row_random_425 : reading (codes ">t1 = \\\n   \\\n\r\n\ta \\\n\tb\r\n%.o :foo #\\\\\\\n\n\t#\0\n \\\n\naendef\r\n") ≡ Assign (Sets [] (codes ">t1") Recursive []) ∷ Opaque (codes "\ta \\\n\tb") ∷ Opaque (codes "%.o :foo #\\\\\\\n") ∷ Opaque (codes "\t#\0") ∷ Opaque (codes "aendef") ∷ []
row_random_425 = refl

row_random_426 : reading (codes "\t\\\n\r\n\ta\\\\\na: x.o\nendif\n\t\n \\\n\tCC:::= .PHONYa \\\\\n\\\n#c \\\n d\nx.o y: \n\techo a # b\r\n.RECIPEPREFIX =>\r\nb: : \\\n  -include2\\\n\t\\\r\n\r\na&b::: a c \\\n \\\n #\\\\") ≡ Opaque (codes "\ta\\\\") ∷ Header ((codes "a") ∷ []) SingleColon [] ((codes "x.o") ∷ []) [] None ∷ Opaque (codes "endif") ∷ Opaque (codes "\t") ∷ Assign (Sets [] (codes "CC") Immediate (codes ".PHONYa \\\\")) ∷ Header ((codes "x.o") ∷ (codes "y") ∷ []) SingleColon [] [] [] None ∷ Recipe (codes "echo a # b") ∷ Assign (Sets [] (codes ".RECIPEPREFIX") Recursive (codes ">")) ∷ Rough (codes "b: : \\\n  -include2\\\n\t\\\r\n") ∷ Rough (codes "a&b::: a c \\\n \\\n #\\\\") ∷ []
row_random_426 = refl

row_random_427 : reading (codes " CC ::=.PHONY \r\n\\\nCC!= b a&b\\\r\n$x #\nelse\n${g(} :A \\\r\n ?=  \n\r\nc &: $(p #)\t.PHONY  a \r\n\\\n# c\r\nfoo: %.c\n \\\n\n\t%.o \t%.c&:\\\nx.o\\\r\n%.o\tb \t\n") ≡ Assign (Sets [] (codes "CC") PosixSimple (codes ".PHONY")) ∷ Assign (Sets [] (codes "CC") Shell (codes "b a&b $x")) ∷ Opaque (codes "else") ∷ TargetAssign ((codes "${g(}") ∷ []) SingleColon (Sets [] (codes "A") Conditional []) ∷ Header ((codes "c") ∷ []) GroupedColon [] ((codes "$(p #)") ∷ (codes ".PHONY") ∷ (codes "a") ∷ []) [] None ∷ Header ((codes "foo") ∷ []) SingleColon [] ((codes "%.c") ∷ []) [] None ∷ Recipe (codes "%.o \t%.c&:\\\nx.o\\\r\n%.o\tb \t") ∷ []
row_random_427 = refl

row_random_428 : reading (codes "private private X :::=\\# %.c \nCC \\\n  !=x  y \\\n\\# b \n>?\ndefine :=\\\n\t\\\n\nx.o y: t\n\t$(\n\t$(\n.x\n&\r\n>!endef$!!\0\\\n!\n") ≡ Assign (Sets (Private ∷ Private ∷ []) (codes "X") Immediate (codes "\\# %.c")) ∷ Assign (Sets [] (codes "CC") Shell (codes "x  y \\# b")) ∷ Opaque (codes ">?") ∷ Assign (Sets [] (codes "define") Simple []) ∷ Header ((codes "x.o") ∷ (codes "y") ∷ []) SingleColon [] ((codes "t") ∷ []) [] None ∷ Recipe (codes "$(") ∷ Recipe (codes "$(") ∷ Opaque (codes ".x") ∷ Opaque (codes "&") ∷ Opaque (codes ">!endef$!!\0\\\n!") ∷ []
row_random_428 = refl

row_random_429 : reading (codes "$(s\\):\tt|$$ #\\\\\\\n\r\nx.o&:: .PHONY \nifneq\r\nx=1 &:: $$ \r\n \r\n\texport\r\nendef !=\\\\\n$(w \\\n\\\n\t\r\n") ≡ Opaque (codes "$(s\\):\tt|$$ #\\\\\\\n") ∷ Header ((codes "x.o") ∷ []) GroupedDoubleColon [] ((codes ".PHONY") ∷ []) [] None ∷ If (codes "ifneq") ∷ Assign (Sets [] (codes "x") Recursive (codes "1 &:: $$")) ∷ Directive (codes "\texport") ∷ Assign (Sets [] (codes "endef") Shell (codes "\\\\")) ∷ Opaque (codes "$(w \\\n\\\n\t") ∷ []
row_random_429 = refl

row_random_430 : reading (codes ".RECIPEPREFIX = :\n a:  $(s\\) ; 1 \t=\\\n\t${c}\n>else\na: foo\n\ta\\\n.\\\n\nfoo: $x\nendif # c") ≡ Assign (Sets [] (codes ".RECIPEPREFIX") Recursive (codes ":")) ∷ Header ((codes "a") ∷ []) SingleColon [] ((codes "$(s\\)") ∷ []) [] (Some (codes " 1 \t=\\\n\t${c}")) ∷ Opaque (codes ">else") ∷ Header ((codes "a") ∷ []) SingleColon [] ((codes "foo") ∷ []) [] None ∷ Opaque (codes "\ta\\\n.\\\n") ∷ Header ((codes "foo") ∷ []) SingleColon [] ((codes "$x") ∷ []) [] None ∷ Opaque (codes "endif # c") ∷ []
row_random_430 = refl

row_random_431 : reading (codes "\t\\\n>\t|:):a!;&\t\na: %.o \\\nx.o\n\ta\\\\\n>y\r\n\tt: u\n\tendef\noverride\\\n\t\\\r\nCC\\\n\t\\\r\n:::=a = $ \t#\0\n&: endef::=  \n  : t1\\\n= ; \\\n\n\\\\\n$>}|$;$\r\\:\n") ≡ Opaque (codes "\t\\\n>\t|:):a!;&\t") ∷ Header ((codes "a") ∷ []) SingleColon [] ((codes "%.o") ∷ (codes "x.o") ∷ []) [] None ∷ Recipe (codes "a\\\\") ∷ Opaque (codes ">y") ∷ Opaque (codes "\tt: u") ∷ Opaque (codes "\tendef") ∷ Opaque (codes "override\\\n\t\\\r\nCC\\\n\t\\\r\n:::=a = $ \t#\0") ∷ Rough (codes "&: endef::=  ") ∷ TargetAssign [] SingleColon (Sets [] (codes "t1") Recursive (codes ";")) ∷ Opaque (codes "\\\\") ∷ Opaque (codes "$>}|$;$\r\\:") ∷ []
row_random_431 = refl

row_random_432 : reading (codes "\ta\\\r\n>b\n\nendef\n\ty\r\n$(a b) &:a.b ?=\n> \na.b+= 2 3 \nendif\n") ≡ Opaque (codes "\ta\\\r\n>b") ∷ Opaque (codes "endef") ∷ Opaque (codes "\ty") ∷ Rough (codes "$(a b) &:a.b ?=") ∷ Opaque (codes "> ") ∷ Assign (Sets [] (codes "a.b") Append (codes "2 3")) ∷ Opaque (codes "endif") ∷ []
row_random_432 = refl

row_random_433 : reading (codes ".RECIPEPREFIX = :\nea\\\r\n>b\nY \\\n = b \t$# \\\n \\\n #\n$$:\\\r\n$$\n\tt: u\nelse ifdef Q\nt &: o=erride\\\n\t\\\r\n!= \r \n") ≡ Assign (Sets [] (codes ".RECIPEPREFIX") Recursive (codes ":")) ∷ Opaque (codes "ea\\\r\n>b") ∷ Assign (Sets [] (codes "Y") Recursive (codes "b \t$#")) ∷ Header ((codes "$$") ∷ []) SingleColon [] ((codes "$$") ∷ []) [] None ∷ Header ((codes "t") ∷ []) SingleColon [] ((codes "u") ∷ []) [] None ∷ Opaque (codes "else ifdef Q") ∷ Opaque (codes "t &: o=erride\\\n\t\\\r\n!= \r ") ∷ []
row_random_433 = refl

row_random_434 : reading (codes "endif\n-x_9 ?= x y \\\n  \na: $x  $x\n\ntelse\n \n") ≡ Opaque (codes "endif") ∷ Assign (Sets [] (codes "-x_9") Conditional (codes "x y")) ∷ Header ((codes "a") ∷ []) SingleColon [] ((codes "$x") ∷ (codes "$x") ∷ []) [] None ∷ Opaque (codes "telse") ∷ []
row_random_434 = refl

row_random_435 : reading (codes "${c}\t$(p #) : \t$(q:;=|) \r\noverride \\\n  ?=  \t\r\n$(s\\)  :${c}#\\\\\\\n\r\n$$:\\\n\tfoo : \r\na&::\\\n\t$(q:;=|) ; \\\\ \\\n$# \0\t#\\\\\\\n\r\n # x ; y : z = 1\r\n${c}: ${c}\t\r\n$(p #): \\\n$(f {) %.c\\\n\ta&b ") ≡ Header ((codes "${c}") ∷ (codes "$(p #)") ∷ []) SingleColon [] ((codes "$(q:;=|)") ∷ []) [] None ∷ Assign (Sets [] (codes "override") Conditional []) ∷ Opaque (codes "$(s\\)  :${c}#\\\\\\\n") ∷ Header ((codes "$$") ∷ []) SingleColon ((codes "foo") ∷ []) [] [] None ∷ Opaque (codes "a&::\\\n\t$(q:;=|) ; \\\\ \\\n$# \0\t#\\\\\\\n") ∷ Header ((codes "${c}") ∷ []) SingleColon [] ((codes "${c}") ∷ []) [] None ∷ Header ((codes "$(p #)") ∷ []) SingleColon [] ((codes "$(f {)") ∷ (codes "%.c") ∷ (codes "a&b") ∷ []) [] None ∷ []
row_random_435 = refl

row_random_436 : reading (codes "export privat\n defin\t\\\nF \\\n\n\tZ = 1\n-x_9 := # x ; y : z = 1\nelse\n${g(}: \t \n# c\n\\\n\t\n") ≡ Directive (codes "export privat") ∷ Opaque (codes " defin\t\\\nF \\\n") ∷ Opaque (codes "\tZ = 1") ∷ Assign (Sets [] (codes "-x_9") Simple []) ∷ Opaque (codes "else") ∷ Header ((codes "${g(}") ∷ []) SingleColon [] [] [] None ∷ []
row_random_436 = refl

row_random_437 : reading [] ≡ []
row_random_437 = refl

row_random_438 : reading (codes "foo &:%.o $(f {) \\\n") ≡ Rough (codes "foo &:%.o $(f {) \\") ∷ []
row_random_438 = refl

row_random_439 : reading (codes " CC= \\$x#c \\\n d\nx.o\t.PHONY:::\tx.o \telse\t$(f {) | a \n$x : \\\n \\\n .PHONY \noverride \\\n  A ::=\\\r\nx  y $(p #)\t%.c\n$(s\\): | \\\n    \n-include2  $$ :: $(s\\) :${c}\\\n\t# \r\n") ≡ Assign (Sets [] (codes "CC") Recursive (codes "\\$x")) ∷ Rough (codes "x.o\t.PHONY:::\tx.o \telse\t$(f {) | a ") ∷ Header ((codes "$x") ∷ []) SingleColon [] ((codes ".PHONY") ∷ []) [] None ∷ Assign (Sets (Override ∷ []) (codes "A") PosixSimple (codes "x  y $(p #)\t%.c")) ∷ Header ((codes "$(s\\)") ∷ []) SingleColon [] [] [] None ∷ Rough (codes "-include2  $$ :: $(s\\) :${c}\\\n\t# ") ∷ []
row_random_439 = refl

row_random_440 : reading (codes "\ta\\\n$(a b): c a&b $(a b) \n\t\nifdef::= ;\\\n\\\n# x ; y : z = 1\n-include2 \\\n \\\n x.o  &: \n>endef\nendef !=\\\r\nx.o \\\n# \r\n\tendif") ≡ Opaque (codes "\ta\\\n$(a b): c a&b $(a b) ") ∷ Opaque (codes "\t") ∷ Assign (Sets [] (codes "ifdef") PosixSimple (codes ";")) ∷ Header ((codes "-include2") ∷ (codes "x.o") ∷ []) GroupedColon [] [] [] None ∷ Opaque (codes ">endef") ∷ Assign (Sets [] (codes "endef") Shell (codes "x.o")) ∷ Opaque (codes "\tendif") ∷ []
row_random_440 = refl

row_random_441 : reading (codes "\\\n\t\r\n\tt  &: a $(q:;=|) \r\nfoo: \n\t\n\n.x\r\nc\\\n\t&:: \n\t\\\nexport private define E # c\r\n#\\\\\nprivate t1 \\\n \\\n ?= \r\noverride X\n") ≡ Opaque (codes "\tt  &: a $(q:;=|) ") ∷ Header ((codes "foo") ∷ []) SingleColon [] [] [] None ∷ Recipe [] ∷ Opaque (codes ".x") ∷ Header ((codes "c") ∷ []) GroupedDoubleColon [] [] [] None ∷ Recipe (codes "\\\nexport private define E # c") ∷ Assign (Sets (Private ∷ []) (codes "t1") Conditional []) ∷ Opaque (codes "override X") ∷ []
row_random_441 = refl

row_random_442 : reading (codes "foo: b\n>a\\\naendif\r\nx.o y: ${g(}\n\ty\r\r\n.RECIPEPREFIX= >\r\nendef\r\nc &:foo# \r\r\nCC ::= \\\r\n \\$x\\\n\t\\\r\n\r\n\r\nY\\\n\t\\\r\n:::= \\$x\\\r\n\r\n") ≡ Header ((codes "foo") ∷ []) SingleColon [] ((codes "b") ∷ []) [] None ∷ Opaque (codes ">a\\\naendif") ∷ Header ((codes "x.o") ∷ (codes "y") ∷ []) SingleColon [] ((codes "${g(}") ∷ []) [] None ∷ Recipe (codes "y\r") ∷ Assign (Sets [] (codes ".RECIPEPREFIX") Recursive (codes ">")) ∷ Opaque (codes "endef") ∷ Opaque (codes "c &:foo# \r") ∷ Assign (Sets [] (codes "CC") PosixSimple (codes "\\$x")) ∷ Assign (Sets [] (codes "Y") Immediate (codes "\\$x")) ∷ []
row_random_442 = refl

row_random_443 : reading (codes "b : :%.c | $(p #) $x\\\r\n") ≡ Rough (codes "b : :%.c | $(p #) $x\\") ∷ []
row_random_443 = refl

row_random_444 : reading (codes "ifeq (a,$(b\na: x.o\n\tendif\n.RECIPEPREFIX ::=\\\n.\n \n : ifdef \\\n \\\n := t\\\n\\\n# \\\n>-x_9 +=\\\\\n\n\t# \\\n \\\n\tc: ${c} .PHONY\tc ") ≡ If (codes "ifeq (a,$(b") ∷ Header ((codes "a") ∷ []) SingleColon [] ((codes "x.o") ∷ []) [] None ∷ Recipe (codes "endif") ∷ Assign (Sets [] (codes ".RECIPEPREFIX") PosixSimple (codes ".")) ∷ TargetAssign [] SingleColon (Sets [] (codes "ifdef") Simple (codes "t")) ∷ []
row_random_444 = refl

row_random_445 : reading (codes "ifneq\ne}se ifdef Q\r") ≡ If (codes "ifneq") ∷ Opaque (codes "e}se ifdef Q\r") ∷ []
row_random_445 = refl

row_random_446 : reading (codes "\t\\\nvpath %.c a\n\\\n\t\r\nfoo: \n$(p #) \ta&: $(f {) \nendef\r\nt ${c} \t&: ${c} \t$(q:;=|)\t| \t%.c") ≡ Directive (codes "\t\\\nvpath %.c a") ∷ Header ((codes "foo") ∷ []) SingleColon [] [] [] None ∷ Header ((codes "$(p #)") ∷ (codes "a") ∷ []) GroupedColon [] ((codes "$(f {)") ∷ []) [] None ∷ Opaque (codes "endef") ∷ Header ((codes "t") ∷ (codes "${c}") ∷ []) GroupedColon [] ((codes "${c}") ∷ (codes "$(q:;=|)") ∷ []) ((codes "%.c") ∷ []) None ∷ []
row_random_446 = refl

row_random_447 : reading (codes "foo: \n\ty\r\n\\\n\t\r\n \\\n\r\na : : e$#f\ta&b\r\n\t \r\ntifdef Z\r\nendif\r\nb : $$ c # \r\r\nifdef!= \r\n\0X$define=\r\n;\r\n") ≡ Header ((codes "foo") ∷ []) SingleColon [] [] [] None ∷ Recipe (codes "y") ∷ Rough (codes "a : : e$#f\ta&b") ∷ Recipe (codes " ") ∷ Opaque (codes "tifdef Z") ∷ Opaque (codes "endif") ∷ Opaque (codes "b : $$ c # \r") ∷ Assign (Sets [] (codes "ifdef") Shell []) ∷ Opaque (codes "\0X$define=") ∷ Opaque (codes ";") ∷ []
row_random_447 = refl

row_random_448 : reading (codes " \\\n\nfoo\tx.o:$(s\\) a |  \t\n\\\nc: ${c} .PHONY \tx.o \n") ≡ Header ((codes "foo") ∷ (codes "x.o") ∷ []) SingleColon [] ((codes "$(s\\)") ∷ (codes "a") ∷ []) [] None ∷ Header ((codes "c") ∷ []) SingleColon [] ((codes "${c}") ∷ (codes ".PHONY") ∷ (codes "x.o") ∷ []) [] None ∷ []
row_random_448 = refl

row_random_449 : reading (codes "\tendef\n") ≡ Opaque (codes "\tendef") ∷ []
row_random_449 = refl

row_random_450 : reading (codes "$$: :%.c t |foo\t%.c ; \\\r\n  \n\telse ifdef Q\ninclude x.o:export\t>q::= $$ $#\t# x ; y : z = 1\ndefine != \\\r\n $$\\#\n-include2 $x\\\n\t&: -x_9 \\\n  !=b$x\\\n\t# x ; y : z = 1\nx.o\t$(s\\) :: A \\\r\n ?=\t \nprivate  t1\t?= \\# \\\\") ≡ Rough (codes "$$: :%.c t |foo\t%.c ; \\\r\n  ") ∷ Recipe (codes "else ifdef Q") ∷ Directive (codes "include x.o:export\t>q::= $$ $#\t# x ; y : z = 1") ∷ Assign (Sets [] (codes "define") Shell (codes "$$\\#")) ∷ Rough (codes "-include2 $x\\\n\t&: -x_9 \\\n  !=b$x\\\n\t# x ; y : z = 1") ∷ TargetAssign ((codes "x.o") ∷ (codes "$(s\\)") ∷ []) DoubleColon (Sets [] (codes "A") Conditional []) ∷ Assign (Sets (Private ∷ []) (codes "t1") Conditional (codes "\\# \\\\")) ∷ []
row_random_450 = refl

row_random_451 : reading (codes "\tt: u\nunexport Y\nX+=\\#\0\n%.o :\t\nx.o\t: :%.o $(s\\) t \n-x_9 = %.o# \\\ndefine E # c\n") ≡ Opaque (codes "\tt: u") ∷ Directive (codes "unexport Y") ∷ Opaque (codes "X+=\\#\0") ∷ Header ((codes "%.o") ∷ []) SingleColon [] [] [] None ∷ Rough (codes "x.o\t: :%.o $(s\\) t ") ∷ Assign (Sets [] (codes "-x_9") Recursive (codes "%.o")) ∷ []
row_random_451 = refl

row_random_452 : reading (codes "override \\\r\n = $(p #) \r\n\\\n#\\\\\\\n\n>\\\n\n\t$(\r\n.PHONY&::$(q:;=|) $$ ${g(} \\\n  | \t\t\r\n.PHONY\\\n\t$x : \t${c} foo b; \t\r\na&b\\\n$x : ifdef :::=a#\\\\\r\n>define Q\n\t ") ≡ Assign (Sets [] (codes "override") Recursive (codes "$(p #)")) ∷ Opaque (codes ">\\\n") ∷ Opaque (codes "\t$(") ∷ Header ((codes ".PHONY") ∷ []) GroupedDoubleColon [] ((codes "$(q:;=|)") ∷ (codes "$$") ∷ (codes "${g(}") ∷ []) [] None ∷ Header ((codes ".PHONY") ∷ (codes "$x") ∷ []) SingleColon [] ((codes "${c}") ∷ (codes "foo") ∷ (codes "b") ∷ []) [] (Some (codes " \t")) ∷ TargetAssign ((codes "a&b") ∷ (codes "$x") ∷ []) SingleColon (Sets [] (codes "ifdef") Immediate (codes "a")) ∷ Opaque (codes ">define Q") ∷ Opaque (codes "\t ") ∷ []
row_random_452 = refl

row_random_453 : reading (codes ".RECIPEPREFIX = d\r\n\\\n\t\r\n \\\n\r\nb : :|d\\\n\t$x  |  \r\n ifndef X # c\r\ndefine::= |\\\\\\") ≡ Assign (Sets [] (codes ".RECIPEPREFIX") Recursive (codes "d")) ∷ Rough (codes "b : :|d\\\n\t$x  |  ") ∷ If (codes " ifndef X # c") ∷ Recipe (codes "efine::= |\\\\\\") ∷ []
row_random_453 = refl

row_random_454 : reading (codes "$=:$)+\nifdef:= \n \\\n\tifdef += $# \t# x ; y : z = 1\n") ≡ Header ((codes "$=") ∷ []) SingleColon [] ((codes "$)+") ∷ []) [] None ∷ Assign (Sets [] (codes "ifdef") Simple []) ∷ Assign (Sets [] (codes "ifdef") Append (codes "$#")) ∷ []
row_random_454 = refl

row_random_455 : reading (codes "endef:::= \r\\\\ #c \\\n d\r\n\t\r\n$(f {) &: $(f {) .PHONY|  \r\na: $(s\\)\n\tifdef Z\nay\r\n>a\\\\\r\n.PHONY: | %.o #\\\\\\\n\r\n.RECIPEPREFIX :::=\\\n>\r\nendef # c\r\n") ≡ Opaque (codes "endef:::= \r\\\\ #c \\\n d") ∷ Opaque (codes "\t") ∷ Rough (codes "$(f {) &: $(f {) .PHONY|  ") ∷ Header ((codes "a") ∷ []) SingleColon [] ((codes "$(s\\)") ∷ []) [] None ∷ Recipe (codes "ifdef Z") ∷ Opaque (codes "ay") ∷ Opaque (codes ">a\\\\") ∷ Opaque (codes ".PHONY: | %.o #\\\\\\\n") ∷ Assign (Sets [] (codes ".RECIPEPREFIX") Immediate (codes ">")) ∷ Opaque (codes "endef # c") ∷ []
row_random_455 = refl

row_random_456 : reading (codes ">#c\na.b  :::=c \n%.c \t:: a $(p #) ; $(\nq:;=|\n #\0\n\tenendefdif\r\n#c \\\n d\r\n.RECIPEPREFIX=\\\n>>\na: ") ≡ Opaque (codes ">#c") ∷ Assign (Sets [] (codes "a.b") Immediate (codes "c")) ∷ Header ((codes "%.c") ∷ []) DoubleColon [] ((codes "a") ∷ (codes "$(p #)") ∷ []) [] (Some (codes " $(")) ∷ Header ((codes "q") ∷ []) SingleColon [] [] [] (Some (codes "=|")) ∷ Recipe (codes "enendefdif") ∷ Assign (Sets [] (codes ".RECIPEPREFIX") Recursive (codes ">>")) ∷ Header ((codes "a") ∷ []) SingleColon [] [] [] None ∷ []
row_random_456 = refl

row_random_457 : reading [] ≡ []
row_random_457 = refl

row_random_458 : reading (codes "ifneq\nx.o y: \n>a\\\\\n \nex\n#\n>Z = 1\na&b c: :  # \\") ≡ If (codes "ifneq") ∷ Header ((codes "x.o") ∷ (codes "y") ∷ []) SingleColon [] [] [] None ∷ Opaque (codes ">a\\\\") ∷ Opaque (codes "ex") ∷ Assign (Sets [] (codes ">Z") Recursive (codes "1")) ∷ Rough (codes "a&b c: :  # \\") ∷ []
row_random_458 = refl

row_random_459 : reading (codes ".RECIPEPREFIX = d\r\n\r\n${c} t : >q:=a $\\\n \r\n> \r\nfoo: \n\tendef\r\noverride X\r\na&b :  X\t+=  \r\n$(p #)&: c $(f {) b") ≡ Assign (Sets [] (codes ".RECIPEPREFIX") Recursive (codes "d")) ∷ TargetAssign ((codes "${c}") ∷ (codes "t") ∷ []) SingleColon (Sets [] (codes ">q") Simple (codes "a $ ")) ∷ Opaque (codes "> ") ∷ Header ((codes "foo") ∷ []) SingleColon [] [] [] None ∷ Opaque (codes "\tendef") ∷ Opaque (codes "override X") ∷ TargetAssign ((codes "a&b") ∷ []) SingleColon (Sets [] (codes "X") Append []) ∷ Header ((codes "$(p #)") ∷ []) GroupedColon [] ((codes "c") ∷ (codes "$(f {)") ∷ (codes "b") ∷ []) [] None ∷ []
row_random_459 = refl

row_random_460 : reading (codes ".RECIPEPREFIX =\\\n\n${g(} foo: \\\n| c %.c\\\n\t\n#\nfoo: \naa\\\n") ≡ Assign (Sets [] (codes ".RECIPEPREFIX") Recursive []) ∷ Header ((codes "${g(}") ∷ (codes "foo") ∷ []) SingleColon [] [] ((codes "c") ∷ (codes "%.c") ∷ []) None ∷ Header ((codes "foo") ∷ []) SingleColon [] [] [] None ∷ Opaque (codes "aa\\") ∷ []
row_random_460 = refl

row_random_461 : reading (codes "export Y =b x  y\r\n : X$  != a\\:b \\\n$(w \\ \n %.o #c \\\n d\n") ≡ Assign (Sets (Export ∷ []) (codes "Y") Recursive (codes "b x  y")) ∷ TargetAssign [] SingleColon (Sets [] (codes "X$ ") Shell (codes "a\\:b $(w \\ ")) ∷ Opaque (codes " %.o #c \\\n d") ∷ []
row_random_461 = refl

row_random_462 : reading (codes "# \\\no-$(a b)::= \\\\ \\\n  \na.b ?= \t%.o c\nifeq (a,$(b\n") ≡ Assign (Sets [] (codes "a.b") Conditional (codes "%.o c")) ∷ If (codes "ifeq (a,$(b") ∷ []
row_random_462 = refl

row_random_463 : reading (codes "\ty\r\n\t# \\") ≡ Opaque (codes "\ty") ∷ Opaque (codes "\t# \\") ∷ []
row_random_463 = refl

row_random_464 : reading (codes "a: .PHONY a&b\n (\n\tCC ::=\\\n #\\\\\nifndef X # c\r\ndefine :::=  \r\n\\\n$(a b) : $(s\\) \r\n${c} $x : : $(s\\) |\ta \r\na: \n\t \n \r\n\\\n$(a b):\\\n\\\n$(q:;=|) $(s\\) |  t a \\\n\r\n") ≡ Header ((codes "a") ∷ []) SingleColon [] ((codes ".PHONY") ∷ (codes "a&b") ∷ []) [] None ∷ Opaque (codes " (") ∷ Opaque (codes "\tCC ::=\\\n #\\\\") ∷ If (codes "ifndef X # c") ∷ Assign (Sets [] (codes "define") Immediate []) ∷ Header ((codes "$(a b)") ∷ []) SingleColon [] ((codes "$(s\\)") ∷ []) [] None ∷ Rough (codes "${c} $x : : $(s\\) |\ta ") ∷ Header ((codes "a") ∷ []) SingleColon [] [] [] None ∷ Recipe (codes " ") ∷ Header ((codes "$(a b)") ∷ []) SingleColon [] ((codes "$(q:;=|)") ∷ (codes "$(s\\)") ∷ []) ((codes "t") ∷ (codes "a") ∷ []) None ∷ []
row_random_464 = refl

row_random_465 : reading (codes "$x&:  \\\n\r\n$X)endbf $=define\\\\\n?\t\n") ≡ Header ((codes "$x") ∷ []) GroupedColon [] [] [] None ∷ Opaque (codes "$X)endbf $=define\\\\") ∷ Opaque (codes "?\t") ∷ []
row_random_465 = refl

row_random_466 : reading (codes "a: a b\n>ifdef Z\n>q = a\\\n\t\\\r\n\\\\ \n>x\r\nx.o  %.c:::c  $x | \naZ = 1\n.y\r\n\r\n\t# x ; y : z = 1\r\nt \t${g(}: ${c} $$\r# \\\n\ta\\\nifneq\r\n\\\nendef x\r\n&:\\ \\\nA += ! \\\n \\\r\n") ≡ Header ((codes "a") ∷ []) SingleColon [] ((codes "a") ∷ (codes "b") ∷ []) [] None ∷ Opaque (codes ">ifdef Z") ∷ Assign (Sets [] (codes ">q") Recursive (codes "a \\\\")) ∷ Opaque (codes ">x") ∷ Rough (codes "x.o  %.c:::c  $x | ") ∷ Assign (Sets [] (codes "aZ") Recursive (codes "1")) ∷ Opaque (codes ".y") ∷ Opaque (codes "\t# x ; y : z = 1") ∷ Opaque (codes "t \t${g(}: ${c} $$\r# \\\n\ta\\\nifneq") ∷ Opaque (codes "\\\nendef x") ∷ Opaque (codes "&:\\ \\\nA += ! \\\n \\") ∷ []
row_random_466 = refl

row_random_467 : reading (codes "export private  override ?=\r\noverride CC \t?=${c} x.o $(q:;=|) \\\r\n \r\nprivte\\\nX ::=\\\n= # x ; y : z = 1\r\na  : a\\\n\t\\\r\na  -include2\\\n\t\\\r\n\r\n\tendef\r\n.RECIPEPR!EFIX=\r\n") ≡ Assign (Sets (Export ∷ Private ∷ []) (codes "override") Conditional []) ∷ Assign (Sets (Override ∷ []) (codes "CC") Conditional (codes "${c} x.o $(q:;=|)")) ∷ Rough (codes "privte\\\nX ::=\\\n= # x ; y : z = 1") ∷ Header ((codes "a") ∷ []) SingleColon [] ((codes "a") ∷ (codes "a") ∷ (codes "-include2") ∷ []) [] None ∷ Recipe (codes "endef") ∷ Assign (Sets [] (codes ".RECIPEPR!EFIX") Recursive []) ∷ []
row_random_467 = refl

row_random_468 : reading (codes ">q :\\:=\tx.o a $(s\\)\r\na&b :  %.o \t${g(} \\\r\n ${g(} \r\nfoo: \n>else\r\n$(f {) \\\r\n :${c}; \t\r\noverride define .RECIPEPREFIX\r\nc:: b \\\r\n .PHONY \\\n$(q:;=|)\r\n>q\\\n\t\\\r\n:= ; \t\r\n") ≡ TargetAssign ((codes ">q") ∷ []) SingleColon (Sets [] (codes "\\:") Recursive (codes "x.o a $(s\\)")) ∷ Header ((codes "a&b") ∷ []) SingleColon [] ((codes "%.o") ∷ (codes "${g(}") ∷ (codes "${g(}") ∷ []) [] None ∷ Header ((codes "foo") ∷ []) SingleColon [] [] [] None ∷ Opaque (codes ">else") ∷ Header ((codes "$(f {)") ∷ []) SingleColon [] ((codes "${c}") ∷ []) [] (Some (codes " \t")) ∷ DefineHead (codes "override define .RECIPEPREFIX") ∷ Body (codes "c:: b \\\r\n .PHONY \\\n$(q:;=|)") ∷ Body (codes ">q\\\n\t\\\r\n:= ; \t") ∷ []
row_random_468 = refl

row_random_469 : reading (codes "-x_9 != \t$(f {)\\\na\\:b #\\\\\n-x_9 :::= $(q:;=|) #\\\\\n$(q:;=|) : c  -include2|\\\n\\\n%.c\n\tx\n.$(\n\t \n$(q:;=|) :  \t\n>y\r\n.RECIPEPREFIX += X") ≡ Assign (Sets [] (codes "-x_9") Shell (codes "$(f {) a\\:b")) ∷ Assign (Sets [] (codes "-x_9") Immediate (codes "$(q:;=|)")) ∷ Rough (codes "$(q:;=|) : c  -include2|\\\n\\\n%.c") ∷ Recipe (codes "x") ∷ Opaque (codes ".$(") ∷ Opaque (codes "\t ") ∷ Header ((codes "$(q:;=|)") ∷ []) SingleColon [] [] [] None ∷ Opaque (codes ">y") ∷ Assign (Sets [] (codes ".RECIPEPREFIX") Append (codes "X")) ∷ []
row_random_469 = refl

row_random_470 : reading (codes "\t$(") ≡ Opaque (codes "\t$(") ∷ []
row_random_470 = refl

row_random_471 : reading (codes ".RECIPEPREFIX = a\r\n\t#c\r\nifdef\\\nB\r\n\techo a # b\r\n>A?=$(b \\\n%.o \r\n$(p #) :: \\\n \\\n private ifdef?= $(w \\\n\r\n export private define X =") ≡ Assign (Sets [] (codes ".RECIPEPREFIX") Recursive (codes "a")) ∷ If (codes "ifdef\\\nB") ∷ Opaque (codes "\techo a # b") ∷ Assign (Sets [] (codes ">A") Conditional (codes "$(b %.o ")) ∷ TargetAssign ((codes "$(p #)") ∷ []) DoubleColon (Sets (Private ∷ []) (codes "ifdef") Conditional (codes "$(w ")) ∷ DefineHead (codes " export private define X =") ∷ []
row_random_471 = refl

row_random_472 : reading (codes ".RECIPEPREFIX = .\r\nfoo: a&b\nifdef A") ≡ Assign (Sets [] (codes ".RECIPEPREFIX") Recursive (codes ".")) ∷ Header ((codes "foo") ∷ []) SingleColon [] ((codes "a&b") ∷ []) [] None ∷ If (codes "ifdef A") ∷ []
row_random_472 = refl

row_random_473 : reading (codes "\nc:: b .PHONY %.o \\\r\n ; \\\n\t\n$$\\\n: \\#x +=foo\n\\\n#\0\n\tdefine Q\n\ta\\\\") ≡ Header ((codes "c") ∷ []) DoubleColon [] ((codes "b") ∷ (codes ".PHONY") ∷ (codes "%.o") ∷ []) [] (Some (codes " \\\n\t")) ∷ TargetAssign ((codes "$$") ∷ []) SingleColon (Sets [] (codes "\\#x") Append (codes "foo")) ∷ DefineHead (codes "\tdefine Q") ∷ Body (codes "\ta\\\\") ∷ []
row_random_473 = refl

row_random_474 : reading (codes " \\\n\tendefc") ≡ Opaque (codes " \\\n\tendefc") ∷ []
row_random_474 = refl

row_random_475 : reading [] ≡ []
row_random_475 = refl

row_random_476 : reading (codes "\tendef\nea\\\r\n>b\n") ≡ Opaque (codes "\tendef") ∷ Opaque (codes "ea\\\r\n>b") ∷ []
row_random_476 = refl

row_random_477 : reading (codes "\tendif\ntab\\\n") ≡ Opaque (codes "\tendif") ∷ Opaque (codes "tab\\") ∷ []
row_random_477 = refl

row_random_478 : reading (codes "$(f {) &::  \nendef :::= \\\n ") ≡ Header ((codes "$(f {)") ∷ []) GroupedDoubleColon [] [] [] None ∷ Assign (Sets [] (codes "endef") Immediate []) ∷ []
row_random_478 = refl

row_random_479 : reading (codes "$(p #):x.o: \\\n \\\n | \\\n  $(q:;=|) ${? \\\n  \nendef # c\n") ≡ Rough (codes "$(p #):x.o: \\\n \\\n | \\\n  $(q:;=|) ${? \\\n  ") ∷ Opaque (codes "endef # c") ∷ []
row_random_479 = refl

row_random_480 : reading (codes ".RECIPEPREFIX =\\\n i\na: \ntendif\n\n\tt: u\n") ≡ Assign (Sets [] (codes ".RECIPEPREFIX") Recursive (codes "i")) ∷ Header ((codes "a") ∷ []) SingleColon [] [] [] None ∷ Opaque (codes "tendif") ∷ Header ((codes "t") ∷ []) SingleColon [] ((codes "u") ∷ []) [] None ∷ []
row_random_480 = refl

row_random_481 : reading (codes "$(f {) &: \t\\\r\n# \\\na&b\\\n\\\n%.o :a&b :  \n>ifdef Z\nexport \ta.b := \nx.o y: $(f {)\n\tifdef Z\n") ≡ Header ((codes "$(f {)") ∷ []) GroupedColon [] [] [] None ∷ Opaque (codes ">ifdef Z") ∷ Assign (Sets (Export ∷ []) (codes "a.b") Simple []) ∷ Header ((codes "x.o") ∷ (codes "y") ∷ []) SingleColon [] ((codes "$(f {)") ∷ []) [] None ∷ Recipe (codes "ifdef Z") ∷ []
row_random_481 = refl

row_random_482 : reading (codes ">a\\\\\n-include2: \t%.o ${c}\tx.o \r\nfoo: -include2 $(q:;=|)\n\t\\\n\nea\\\n>y\r\n\\\n# x ; y: z = 1\n\t# \\\r\n") ≡ Opaque (codes ">a\\\\") ∷ Header ((codes "-include2") ∷ []) SingleColon [] ((codes "%.o") ∷ (codes "${c}") ∷ (codes "x.o") ∷ []) [] None ∷ Header ((codes "foo") ∷ []) SingleColon [] ((codes "-include2") ∷ (codes "$(q:;=|)") ∷ []) [] None ∷ Recipe (codes "\\\n") ∷ Opaque (codes "ea\\\n>y") ∷ Opaque (codes "\t# \\") ∷ []
row_random_482 = refl

row_random_483 : reading (codes "A\t= \n$(f {) &:\\\n\t\\\r\n$(f {)# c\n\\\nY  = \\\n${g(}\n\tendef\nt: \\\n \\\n ${c}\t$x\t$(a b)\nA ::= \n\n\n\t;X\\=\r\n\n") ≡ Assign (Sets [] (codes "A") Recursive []) ∷ Header ((codes "$(f {)") ∷ []) GroupedColon [] ((codes "$(f {)") ∷ []) [] None ∷ Assign (Sets [] (codes "Y") Recursive (codes "${g(}")) ∷ Opaque (codes "\tendef") ∷ Header ((codes "t") ∷ []) SingleColon [] ((codes "${c}") ∷ (codes "$x") ∷ (codes "$(a b)") ∷ []) [] None ∷ Assign (Sets [] (codes "A") PosixSimple []) ∷ Opaque (codes "\t;X\\=") ∷ []
row_random_483 = refl

row_random_484 : reading [] ≡ []
row_random_484 = refl

row_random_485 : reading (codes "foo: b %.o\nendif\nelse ifdef Q\r\n\t#\\\\\\\n\r\nc\ta&b:: $(f  : ${g(} |d $(q:;=|)|$(a b) \n\t\n\\\nexport define\n\ta \\\n\tb\r\n") ≡ Header ((codes "foo") ∷ []) SingleColon [] ((codes "b") ∷ (codes "%.o") ∷ []) [] None ∷ Opaque (codes "endif") ∷ Opaque (codes "else ifdef Q") ∷ Opaque (codes "\t#\\\\\\\n") ∷ Rough (codes "c\ta&b:: $(f  : ${g(} |d $(q:;=|)|$(a b) ") ∷ Recipe [] ∷ DefineHead (codes "\\\nexport define") ∷ Body (codes "\ta \\\n\tb") ∷ []
row_random_485 = refl

row_random_486 : reading (codes "-x_9= x.o c $(a b) # c\n$(s\\) : : -include2 .PHONY \tt \\\r\n \na&b ::   \nX$  := \\#x  y \nelse ifdef Q\n#\0\na: ${c} %.o\n\\\n\t\nX$  := x.o \\\r\n \nX\\\r\n!=  \n") ≡ Assign (Sets [] (codes "-x_9") Recursive (codes "x.o c $(a b)")) ∷ Rough (codes "$(s\\) : : -include2 .PHONY \tt \\\r\n ") ∷ Header ((codes "a&b") ∷ []) DoubleColon [] [] [] None ∷ Assign (Sets [] (codes "X$ ") Simple (codes "\\#x  y")) ∷ Opaque (codes "else ifdef Q") ∷ Header ((codes "a") ∷ []) SingleColon [] ((codes "${c}") ∷ (codes "%.o") ∷ []) [] None ∷ Assign (Sets [] (codes "X$ ") Simple (codes "x.o")) ∷ Assign (Sets [] (codes "X") Shell []) ∷ []
row_random_486 = refl

row_random_487 : reading (codes ".RECIPEPREFIX = b\nexport \tdefine \\\n+= \n$(q:;=|) : a&b \tt \\\n \\\n ; ${c}\n\t#c") ≡ Assign (Sets [] (codes ".RECIPEPREFIX") Recursive (codes "b")) ∷ Assign (Sets (Export ∷ []) (codes "define") Append []) ∷ Header ((codes "$(q:;=|)") ∷ []) SingleColon [] ((codes "a&b") ∷ (codes "t") ∷ []) [] (Some (codes " ${c}")) ∷ []
row_random_487 = refl

row_random_488 : reading (codes "\tdefine :::=foo \r\nb  ${g(}: \\\n  #=\r\n") ≡ Assign (Sets [] (codes "define") Immediate (codes "foo")) ∷ Header ((codes "b") ∷ (codes "${g(}") ∷ []) SingleColon [] [] [] None ∷ []
row_random_488 = refl

row_random_489 : reading (codes "}.a\0\n") ≡ Opaque (codes "}.a\0") ∷ []
row_random_489 = refl

row_random_490 : reading (codes "endif\nifneq\n&:\n\t\\\n\nifeq (a,$(b\nX +=\t$(m \\\n n) $\\\r\n \nb::: \\\n  c foo\na&b:\\\n\t\\\r\n${c}:\t-include2 ;  ") ≡ Opaque (codes "endif") ∷ If (codes "ifneq") ∷ Header [] GroupedColon [] [] [] None ∷ Recipe (codes "\\\n") ∷ If (codes "ifeq (a,$(b") ∷ Assign (Sets [] (codes "X") Append (codes "$(m n) $ ")) ∷ Rough (codes "b::: \\\n  c foo") ∷ Header ((codes "a&b") ∷ []) SingleColon ((codes "${c}") ∷ []) ((codes "-include2") ∷ []) [] (Some (codes "  ")) ∷ []
row_random_490 = refl

row_random_491 : reading (codes " \\\n\nt1 ?= a $(q:;=|)\\\n\n") ≡ Assign (Sets [] (codes "t1") Conditional (codes "a $(q:;=|)")) ∷ []
row_random_491 = refl

row_random_492 : reading (codes "a&b: $(a b)\n\t \n>define Q\r\n\ta\\\n>export ifdef::= \r\n\\\n#c \\\n d\r\nifdef A\n\t#c\r\n\t\\\na&b: %.c a&b \\\n$(a b) #c \\\n d\noverride define .RECIPEPREFIX") ≡ Header ((codes "a&b") ∷ []) SingleColon [] ((codes "$(a b)") ∷ []) [] None ∷ Recipe (codes " ") ∷ Opaque (codes ">define Q") ∷ Opaque (codes "\ta\\\n>export ifdef::= ") ∷ If (codes "ifdef A") ∷ Opaque (codes "\t#c") ∷ Opaque (codes "\t\\\na&b: %.c a&b \\\n$(a b) #c \\\n d") ∷ DefineHead (codes "override define .RECIPEPREFIX") ∷ []
row_random_492 = refl

row_random_493 : reading (codes ".RECIPEPREFIX = -\r\nx.o y: a\nelse\n \\\n\n\tx\r\na: a&b\n\t \n>a \\\n\tb\r\n%.c foo : \\\n  $(a b)\tb %.o # x ; y : z = 1\r\n.RECIPEPREFIX = .\r\n>a \\\n\tb\r\na: : \\\n${c}:  # \r\r\n") ≡ Assign (Sets [] (codes ".RECIPEPREFIX") Recursive (codes "-")) ∷ Header ((codes "x.o") ∷ (codes "y") ∷ []) SingleColon [] ((codes "a") ∷ []) [] None ∷ Opaque (codes "else") ∷ Opaque (codes "\tx") ∷ Header ((codes "a") ∷ []) SingleColon [] ((codes "a&b") ∷ []) [] None ∷ Opaque (codes ">a \\\n\tb") ∷ Header ((codes "%.c") ∷ (codes "foo") ∷ []) SingleColon [] ((codes "$(a b)") ∷ (codes "b") ∷ (codes "%.o") ∷ []) [] None ∷ Assign (Sets [] (codes ".RECIPEPREFIX") Recursive (codes ".")) ∷ Opaque (codes ">a \\\n\tb") ∷ Opaque (codes "a: : \\\n${c}:  # \r") ∷ []
row_random_493 = refl

row_random_494 : reading (codes "Y:::=\\\n\t \\\r\n \nexport >q?=$(a b)$(s\\)#\\\\\\\n\n") ≡ Assign (Sets [] (codes "Y") Immediate []) ∷ Opaque (codes "export >q?=$(a b)$(s\\)#\\\\\\\n") ∷ []
row_random_494 = refl

row_random_495 : reading [] ≡ []
row_random_495 = refl

row_random_496 : reading (codes "a&b \\\r\n $x:-include2 | %.c \r\n-include2:\\\r\nb \n\t: override A :::= \\\n \n${c}: x.o a&b \tt \n\tifdef Z\r\n.RECIPEPREFIX+= \n:b endef\n=\r\ndefine)+:$\n.RECIPEPREFIX =\\\n>\r\nta \\\n\tb\r\neelse") ≡ Header ((codes "a&b") ∷ (codes "$x") ∷ []) SingleColon [] ((codes "-include2") ∷ []) ((codes "%.c") ∷ []) None ∷ Header ((codes "-include2") ∷ []) SingleColon [] ((codes "b") ∷ []) [] None ∷ Recipe (codes ": override A :::= \\\n ") ∷ Header ((codes "${c}") ∷ []) SingleColon [] ((codes "x.o") ∷ (codes "a&b") ∷ (codes "t") ∷ []) [] None ∷ Recipe (codes "ifdef Z") ∷ Assign (Sets [] (codes ".RECIPEPREFIX") Append []) ∷ Header [] SingleColon [] ((codes "b") ∷ (codes "endef") ∷ []) [] None ∷ Opaque (codes "=") ∷ Rough (codes "define)+:$") ∷ Assign (Sets [] (codes ".RECIPEPREFIX") Recursive (codes ">")) ∷ Opaque (codes "ta \\\n\tb") ∷ Opaque (codes "eelse") ∷ []
row_random_496 = refl

row_random_497 : reading (codes ">\n\\\n#\\\\\\\n\n%.c : :.PHONY \\\n%.c| ${g(}\n\n>else\nendif # c\nfoo: \n#\n>a \\\n\tb") ≡ Opaque (codes ">") ∷ Rough (codes "%.c : :.PHONY \\\n%.c| ${g(}") ∷ Opaque (codes ">else") ∷ Opaque (codes "endif # c") ∷ Header ((codes "foo") ∷ []) SingleColon [] [] [] None ∷ Opaque (codes ">a \\\n\tb") ∷ []
row_random_497 = refl

row_random_498 : reading (codes ".RECIPEPREFIX = b\n>\ndefine $x &:: a\\\n: \\\n \\\n $(p #) $(a b)\tc #\\\\\\\n\n") ≡ Assign (Sets [] (codes ".RECIPEPREFIX") Recursive (codes "b")) ∷ Opaque (codes ">") ∷ Opaque (codes "define $x &:: a\\\n: \\\n \\\n $(p #) $(a b)\tc #\\\\\\\n") ∷ []
row_random_498 = refl

row_random_499 : reading (codes "\\\n#\\\\\\\n\r\noverride ::=  $x\\\n%.o |#c \\\n d\r\nfoo: x.o\nea\\\\\r\n") ≡ Assign (Sets [] (codes "override") PosixSimple (codes "$x %.o |")) ∷ Header ((codes "foo") ∷ []) SingleColon [] ((codes "x.o") ∷ []) [] None ∷ Opaque (codes "ea\\\\") ∷ []
row_random_499 = refl

row_random_500 : reading [] ≡ []
row_random_500 = refl
