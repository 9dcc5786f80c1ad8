-- Queries and their texts. Made by `tests/definitions/query_rows.py tests/cases/readings/random.tsv`.
use Rattle.std.proofs.Common.{◌≡◌, refl, ℕ, List, [], ◌∷◌, map, None}
use Rattle.std.specs.Prelude.{codes}
use Rattle.std.specs.Fmt.{digits}
use Rattle.mk_tree.specs.Documents.{document_lines}
use Rattle.mk_queries.specs.Queries.{vars_text, rules_text, check_text}

abbrev rows_1 : List (List ℕ × (List ℕ × List ℕ × List ℕ))
rows_1 =
    (codes "$(f {): : \t \n\ta \\\n\tb\n>q\t:= \t%.o\\\\$(s\\) \n #\\\\\n$(a b): : \\\r\n $(q:;=|):| \na: \n\ta\\\ntt: u", (codes "4:0: >q := %.o\\\\$(s\\)\n", codes "8:0: a: [1]\n", codes "1: rough\n6: rough\n")) ∷  -- random-001
    (codes "\ta\t\\\r\n>b", ([], [], codes "1: opaque\n")) ∷  -- random-002
    (codes "}} \\\\\n(&{\t+ \n\ta \\\n\tb\na::\\\n\\\n$(f {) : $x $(a b) \t$(s\\)#\0\n\t\n$(q:;=|) ::: a&b %.o | ${c}#\noverride::=$(f {)# c\n\t\nt:  \na&b : $$ # ", (codes "10:0: override ::= $(f {)\n", codes "12:0: t: [0]\n13:0: a&b: $$ [0]\n", codes "1: opaque\n2: opaque\n3: opaque\n5: opaque\n8: opaque\n9: rough\n")) ∷  -- random-003
    (codes "t1 != $x: \t\\\\ \n$(s\\) $$:override -x_9\t:::=x  yfoo \n=", (codes "1:0: t1 != $x: \t\\\\\n2:0: $(s\\) $$: override -x_9 :::= x  yfoo\n", [], codes "3: opaque\n")) ∷  -- random-004
    (codes " \\\n\tt1\\\r\n?= $(s\\)$(a b)  # x ; y : z = 1\r\nen>def?=  #\r\n+ :=\\\\\\\r\n\ta\\\\\r\nendef#c\r\ntdefine Q\r\n-include2 a&b : : | a:b ${c} \r\n>tu\r\n", (codes "1:0: t1 ?= $(s\\)$(a b)\n4:0: en>def ?=\n", [], codes "5: opaque\n7: opaque\n8: opaque\n9: rough\n10: opaque\n")) ∷  -- random-005
    (codes "override export .RECIPEPREFIX\t!=b\\\r\nb 1 \t\n\t\\\n\n \\\n&: a\\= +=\\\n\\\n #\0\n>${c} $(f {) &:: ${g(}\t# x ; y : z = 1\na: $(q:;=|)  %.c\n$(q:;=|) $$ : $$ .PHONY \n\ta&b :\\\r\n$(f {) \t$$\\\n\t\n${g(}&::\tfoo\t#c \\\n d", (codes "1:0: override export .RECIPEPREFIX != b b 1\n", codes "9:0: >${c} $(f {)&:: ${g(} [0]\n10:0: a: $(q:;=|) %.c [0]\n11:0: $(q:;=|) $$: $$ .PHONY [1]\n15:0: ${g(}&:: foo [0]\n", codes "5: opaque\n")) ∷  -- random-006
    (codes "$(s\\) ::\tx.o x.o| -include2 \r\na: $(q:;=|)\\\n\t\\\r\n${c}\n\tifdef Z\n # \r\r\n$(q:;=|): :$=: $(s\\)  ${g(}\\\n|   \r\n# c\r\n\n\r\n", ([], codes "2:0: a: $(q:;=|) ${c} [1]\n", codes "1: rough\n7: rough\n")) ∷  -- random-007
    (codes "$(a b) \\\n \\\n a&b:.PHONY foo \n\tZ = 1\r\n(\t\\\n\r\n.RECIPEPREFIX =\\\n>\r\nx.o y: \n\n #\\\\\\\n\n\tendef\r\nifdef!== \\\n#c \\\n d\r\n>A :=; \r\n\t$(\r\ntendef\r\nifeq (a,$(b\r\n", (codes "7:0: .RECIPEPREFIX = >\n14:0: ifdef != =\n17:0: >A := ;\n", codes "1:0: $(a b) a&b: .PHONY foo [1]\n9:0: x.o y: [0]\n", codes "5: opaque\n13: opaque\n18: opaque\n19: opaque\nend: conditionals 1\n")) ∷  -- random-008
    (codes "\\\n\\\n", ([], [], codes "1: opaque\n")) ∷  -- random-009
    (codes "\ta\\\r\n>b\\\\\nx.o y: \n\t \\\n\tb\n>edef\n\t\n\t#c\n\n", ([], codes "3:0: x.o y: [1]\n", codes "1: opaque\n6: opaque\n7: opaque\n8: opaque\n")) ∷  -- random-010
    (codes "a: .PHONY\n \\\n\nifeq (a,$(b\n\tt: u\r\n> \r\n>x\r\n\n\\\\\n{b; \0\t\\\n\\\n>?\r\nA != \\\n \\\n a $x\r\nendif\r\n\\\r\n&:  X :::=%.c \r\na?\r\n$!define |\r\n>Z = 1\r\n", (codes "13:1: A != a $x\n21:0: >Z = 1\n", codes "1:0: a: .PHONY [1]\n", codes "6: opaque\n7: opaque\n9: opaque\n10: opaque\n17: rough\n19: opaque\n20: opaque\n")) ∷  -- random-011
    (codes ".RECIPEPREFIX = X\n.a\\\\\noverride\\\n\\\ndefine:::=  \t# \r\nexport\\\nA?= \\\r\n $(p #)#c \\\n d\nx.o y: -include2\n \\\n\n$(q:;=|) :\tfoo \n$$ :\\\n-include2 b #\\\\\na.b::=\\\n\\\n$(f {) \n \\\n", (codes "1:0: .RECIPEPREFIX = X\n3:0: override define :::=\n6:0: export A ?= $(p #)\n16:0: a.b ::= $(f {)\n", codes "10:0: x.o y: -include2 [0]\n13:0: $(q:;=|): foo [0]\n14:0: $$: -include2 b [0]\n", codes "2: opaque\n19: opaque\n")) ∷  -- random-012
    (codes "\tendef\nx.o x.o&:: \tx.o\tx.o $(f {)\n%.c &: .PHONY:\n\t#c\nb :a&b;%.o\n", ([], codes "2:0: x.o x.o&:: x.o x.o $(f {) [0]\n5:0: b: a&b [1]\n", codes "1: opaque\n3: rough\n")) ∷  -- random-013
    (codes "-x_9\\\n\t?=\\\nt \n>&>q::=\r #\n \\\n\t$(f {)::: \t \ne\\ef = 1 \n \n#\nY \t?= \0", (codes "1:0: -x_9 ?= t\n7:0: e\\ef = 1\n", [], codes "4: opaque\n5: rough\n10: opaque\n")) ∷  -- random-014
    (codes "$(q:;=|):: $$ \r\na:t ${c} $(p #) \nt1 :::=$(p #) \\\n  \\$x \0 # x ; y : z = 1\r\nifdef =  # \\\nfoo: \n.t: u\n# \\\n", (codes "5:0: ifdef =\n", codes "1:0: $(q:;=|):: $$ [0]\n2:0: a: t ${c} $(p #) [0]\n7:0: .t: u [0]\n", codes "3: opaque\n")) ∷  -- random-015
    (codes "$x&:: b \t$(s\\)\ninclude a\n &: t1+= ${g(} \\\r\n \\$x \\\n \\\n # \\\nfoo &:: $x\t:\\\r\n$(s\\)\\\n\t#\n\\\n\t", ([], codes "1:0: $x&:: b $(s\\) [0]\n", codes "3: rough\n")) ∷  -- random-016
    ([], ([], [], [])) ∷  -- random-017
    (codes "x.o y: %.o\tx.o\noverride != \\\n$(f {) $(q:;=|) \\\n  \nA ::=a\\:b \nload x\nx.o y: .PHONY\n\techo a # b\nendif # c\n>$(s\\): : x.o :$(p #)\\\n\t|\\\n# \r\nendef\\\n\n\t\\\n$(p #):${c} t \nvpath %.c a\n", (codes "2:0: override != $(f {) $(q:;=|)\n5:0: A ::= a\\:b\n", codes "1:0: x.o y: %.o x.o [0]\n7:0: x.o y: .PHONY [1]\n", codes "9: opaque\n10: rough\n13: opaque\n15: opaque\n")) ∷  -- random-018
    (codes "foo: b\n\nifneq\n.\r\n$(p #): : \\\r\n .PHONY#\\\\\\\n\r\nfoo $(q:;=|) : $(f {) \\\n \\\n :$(q:;=|) $(a b) \n\\\n\t\n\n\toverride\\\n\\\nprivate X:=\\\n\t \n.RECIPEPREFIX::=t\r\n$x :: ${g(} \\\r\n |  # \\\nt\\\r\n: :${g(}\ta&b  $(q:;=|) \n", (codes "18:1: .RECIPEPREFIX ::= t\n", codes "1:0: foo: b [0]\n8:1: foo $(q:;=|): $(f {): $(q:;=|) $(a b) [1]\n19:1: $x:: ${g(} [0]\n", codes "4: opaque\n5: opaque\nend: conditionals 1\n")) ∷  -- random-019
    (codes "de#fine F \\\n\n\t#\n>y\r\n# \\\nx.o y: .PHONY\n\tifdef Z\n\t#c\n", ([], [], codes "1: opaque\n3: opaque\n4: opaque\n7: opaque\n8: opaque\n")) ∷  -- random-020
    (codes "t\\\n\n.PHONY  c: (p #) $(s\\) \\\n$(p #) \nex\noverride X\n> \nCC \\\n \\\n != \\# \\\r\n $\\\n \n\t-x_9 \\\r\n ?=x.o\n", (codes "8:0: CC != \\# $ \n13:0: -x_9 ?= x.o\n", codes "3:0: .PHONY c: (p [0]\n", codes "1: opaque\n5: opaque\n6: opaque\n7: opaque\n")) ∷  -- random-021
    (codes "override != \\\r\n -include2\\$x #\\\\\\\n\r\nendef\\\n\r\n\n\r\n-x_9?= $$a\\:b\\\n\\\n%.c \t\r\nb: x.o ${c} %.c; $(w \\\n \t\\\n", (codes "8:0: -x_9 ?= $$a\\:b %.c\n", codes "11:0: b: x.o ${c} %.c [1]\n", codes "1: opaque\n4: opaque\n")) ∷  -- random-022
    (codes ".RECIPEPREFIX = e\n", (codes "1:0: .RECIPEPREFIX = e\n", [], [])) ∷  -- random-023
    (codes ".RECIPEPREFIX = $$\r\n >q != \\\r\n $$\\\n\\\n$(s\\) ; \r\nendef\r\nx.o y: \nelse ifdef Q\r\nfoo: \r\nCC :::= \\\n\t\r\noverride define .RECIPEPREFIX\r\n$&: : \r\n\tZ = 1\r\n", (codes "1:0: .RECIPEPREFIX = $$\n2:0: >q != $$ $(s\\) ;\n10:0: CC :::=\n", codes "7:0: x.o y: [0]\n9:0: foo: [0]\n", codes "6: opaque\n8: opaque\nend: defines 1\n")) ∷  -- random-024
    (codes "endef#c\r\n\ta\\\r\nendef\r\na.b ::= b t \\$x \t\r\nb $(p #):\tt {$(p #) foo \r\n\tdefine Q\r\n", (codes "4:0: a.b ::= b t \\$x\n", codes "5:0: b $(p #): t {$(p #) foo [1]\n", codes "1: opaque\n2: opaque\n")) ∷  -- random-025
    (codes "\t\n\\\n\t\ndefine ::=  \\\r\n # x ; y : z = 1\nfoo: \n\ty\r\nifndef X # c\n\telse\n>endef # c\n$(a b): :\ta&b \\\nfoo ", (codes "4:0: define ::=\n", codes "6:0: foo: [2]\n", codes "10: opaque\n11: rough\nend: conditionals 1\n")) ∷  -- random-026
    (codes "\t \r\n$x\\\r\nc&: t \\\r\n | ${g(}\\\n\t.PHONY \t\r\nifdef\\\nB\r\n # x ; y : z = 1\r\n.RECIPEPREFIX ::= Ã\r\n", (codes "9:1: .RECIPEPREFIX ::= Ã\n", codes "2:0: $x c&: t | ${g(} .PHONY [0]\n", codes "end: conditionals 1\n")) ∷  -- random-027
    (codes "\tdefine Q\r\nCC=  \n", ([], [], codes "end: defines 1\n")) ∷  -- random-028
    (codes " !{:|::endef}\nexport .ECIPEPREFIX=$x\n", (codes "2:0: export .ECIPEPREFIX = $x\n", [], codes "1: rough\n")) ∷  -- random-029
    (codes ".RECIPEPREFIX = b\nfoo: ${g(} \\\n  ${c}; \t$(q:;=|)${c}", (codes "1:0: .RECIPEPREFIX = b\n", codes "2:0: foo: ${g(} ${c} [1]\n", [])) ∷  -- random-030
    (codes "a\t$(a b) &:export\\\r\noverride=\\\r\n \n$(p #) :::  |  ;\\\n\\\n\n\t$(\n\\\n\n$(p #) :  | b \\\n  foo\\\r\n\noverride := \\\n \\\n : # \\\n\tendef\n.RECIPEPREFIX=Ã\n${g(} &: $(a b) \tt\t${c} \\\r\n | c  b #\\\\\n", (codes "13:0: override := :\n17:0: .RECIPEPREFIX = Ã\n", codes "10:0: $(p #): | b foo [0]\n18:0: ${g(}&: $(a b) t ${c} | c b [0]\n", codes "1: rough\n4: rough\n")) ∷  -- random-031
    (codes "endif # c\n\\\nY! = \n#\n", (codes "2:0: Y! =\n", [], codes "1: opaque\n")) ∷  -- random-032
    ([], ([], [], [])) ∷  -- random-033
    (codes "foo : ${g(} x.o\n\tZ = 1\n # \r\nexport >q\\\r\n:=    \n}=>\n${c}: :  a |  \nX +=$\\\n  a\\:b\\\r\n\n export private define .RECIPEPREFIX\n>q:=\\\n\t%.c# c\n\\\noverride \\\n  CC\t=  \nY != ", (codes "4:0: export >q :=\n6:0: } = >\n8:0: X += $ a\\:b\n", codes "1:0: foo: ${g(} x.o [1]\n", codes "7: rough\nend: defines 1\n")) ∷  -- random-034
    (codes " \n>endef\na x.o &::$(s\\): \naendef\n\\\n#\nt1 ::=$x$x\nb&::  \\\n  ", (codes "7:0: t1 ::= $x$x\n", codes "8:0: b&:: [0]\n", codes "2: opaque\n3: rough\n4: opaque\n")) ∷  -- random-035
    (codes "\t\\\n$(s\\) : $= |$(f {) \t%.o \\\n  \r\noverride\\\nY := \\\r\n\\\n$x: ${c} \tx.o \t# c\r\n\ta\\\\\r\nX:= $\\\r\n \r\n\\\n%.c:  \r\n", (codes "4:0: override Y := $x: ${c} \tx.o\n9:0: X := $ \n", codes "11:0: %.c: [0]\n", codes "1: opaque\n8: opaque\n")) ∷  -- random-036
    (codes "%.c: b  $$ \n\tx\n-x_9 ?= \\\r\n  \nb&: c \\\r\n .PHXNY \nt1 := \\\n  $(s\\)$$ \\$x \nx.o y: \nat: u\nexport define\n\\>\t$\n#\\$=(\t\\\n#=", (codes "3:0: -x_9 ?=\n7:0: t1 := $(s\\)$$ \\$x\n", codes "1:0: %.c: b $$ [1]\n5:0: b&: c .PHXNY [0]\n9:0: x.o y: [0]\n10:0: at: u [0]\n", codes "end: defines 1\n")) ∷  -- random-037
    (codes "a: a %.o\nea\\\r\n>b\r\n>end+f\r\nX != c $$\r\naecho a # b\r\n>a\\\r\n>b\r\n-x_9\\\n\\\n= \\\n\r\n", (codes "5:0: X != c $$\n9:0: -x_9 =\n", codes "1:0: a: a %.o [0]\n", codes "2: opaque\n4: opaque\n6: opaque\n7: opaque\n")) ∷  -- random-038
    (codes ">endef#c\r\n\t$(\nY= ${g(} \r\nifdef A", (codes "3:0: Y = ${g(}\n", [], codes "1: opaque\n2: opaque\nend: conditionals 1\n")) ∷  -- random-039
    (codes ".RECIPEPREFIX = x\r\n${c}::foo foo \r\na: t\ta\n else\r\n?\\|endefb\r\n$a b) \\\n$(q:;=|)&: c a&b  ${c}\\b\\\r\n\r\n", (codes "1:0: .RECIPEPREFIX = x\n", codes "2:0: ${c}:: foo foo [0]\n3:0: a: t a [0]\n", codes "4: opaque\n5: opaque\n6: rough\n")) ∷  -- random-040
    (codes "\\# ?\r= =define$\r\na &:x.o \t$$ |$(p #) #\\\\\r\nifeq (a,$(b\nifdef A\r\n  &:\\\n\\\nendef::= $x.o |\\\n\\\n\r\n", ([], [], codes "1: opaque\n2: rough\n5: rough\nend: conditionals 2\n")) ∷  -- random-041
    (codes "\t\\\nc : : ; \t= # \r\na.b +=: \\\n  $(a b) ${u# x ; y : z = 1\nifdef\\\n\t+= 1 \\\n \\\n t \n-x_9 ::=\\\na\\:b\t\na foo &:$(f {) : %.o  \n", (codes "3:0: a.b += : $(a b) ${u# x ; y : z = 1\n5:0: ifdef += 1 t\n9:0: -x_9 ::= a\\:b\n", [], codes "1: opaque\n11: rough\n")) ∷  -- random-042
    (codes "override X$:?= 2 3$ \r\n: endef\\\n\t!= =\r\nx.o y: \r\na : privat t1:::=  \r\nY! ::=\\\nt${c} \r\nendif\r\n$(p #)  a&b :  |\t#\\\\\\\n\r\n", (codes "1:0: override X$: ?= 2 3$ \n2:0: : endef != =\n6:0: Y! ::= t${c}\n", codes "4:0: x.o y: [0]\n", codes "5: rough\n8: opaque\n9: opaque\n")) ∷  -- random-043
    (codes ".\r\n", ([], [], codes "1: opaque\n")) ∷  -- random-044
    (codes "$(f {) &:: $(s\\) \\\n \\\n ${g(} $(s\\) ;  # x ; y : z = 1\r\ntt: u\r\na&b:::  .PHONY \r\nelse\n$$: : foo \r\nelse ifdef Q", ([], codes "1:0: $(f {)&:: $(s\\) ${g(} $(s\\) [1]\n4:0: tt: u [0]\n", codes "5: rough\n6: opaque\n7: rough\n8: opaque\n")) ∷  -- random-045
    (codes "else\r\n>CC ?=\\\n\r\n\t#c\r\nt1 \\\n \\\n != \\\r\n  \n", (codes "2:0: >CC ?=\n5:0: t1 !=\n", [], codes "1: opaque\n")) ∷  -- random-046
    (codes "override override\\\r\n:::= \r\na: \n\r\n\r\nexport Y \t::=\\$x \r\n.echo a # b\n: \t\\\nendef|\rb\\\r\na&b c &:  #\0\n #\0\n>a\\\n>define Q\r\n", (codes "1:0: override override :::=\n6:0: export Y ::= \\$x\n", codes "3:0: a: [0]\n", codes "7: opaque\n8: opaque\n12: opaque\n")) ∷  -- random-047
    (codes "$(p #)\\\n\t:\t$x a $(s\\) |  \n\tx\n\tendif\n\r\t\\\n>(\n\t\\\nendif\nendef x\nfoo: $(f {)\nifdef\\\nB\nifneq\nendef#c\n", ([], codes "1:0: $(p #): $x a $(s\\) [2]\n10:0: foo: $(f {) [0]\n", codes "5: opaque\n7: opaque\n9: opaque\n14: opaque\nend: conditionals 2\n")) ∷  -- random-048
    (codes "export override =\n$(p #)::\\\r\nY!= a\\:b #\0\n", (codes "1:0: export override =\n", [], codes "2: opaque\n")) ∷  -- random-049
    (codes ".RECIPEPREFIX = a\noverride\texport \ta.b =  \n.RECIPEPREFIX::= \r\n\t\\\nendef\nfoo: $(p #) $(p #) \r\n", (codes "1:0: .RECIPEPREFIX = a\n2:0: override export a.b =\n3:0: .RECIPEPREFIX ::=\n", codes "6:0: foo: $(p #) $(p #) [0]\n", codes "4: opaque\n")) ∷  -- random-050
    []

answers_1 : map (λ row. let lines = document_lines row.0 in (vars_text None lines, rules_text None lines, check_text lines)) rows_1 ≡ map (λ row. row.1) rows_1
unfolding digits
answers_1 = refl

abbrev rows_2 : List (List ℕ × (List ℕ × List ℕ × List ℕ))
rows_2 =
    (codes "endif\nfoo: \n\t\n\ta \\\n\tb\n\techo a # b\n\tifdef Z\n", ([], codes "2:0: foo: [4]\n", codes "1: opaque\n")) ∷  -- random-051
    (codes "CC +=a#\r\n$\\a b): \\\r\n  # \\\r\n", (codes "1:0: CC += a\n", [], codes "2: rough\n")) ∷  -- random-052
    (codes ".endef\nx.o y: \n\n>#c\n\tendef\n%.o : \\\n \\\n ${c} : \tb $$ \n \\\n\toverride:=  \\\n\nendef # c\n>y\r\n$(p #)\t-include2: foo \n", (codes "9:0: override :=\n", codes "2:0: x.o y: [0]\n6:0: %.o: ${c}: b $$ [0]\n14:0: $(p #) -include2: foo [0]\n", codes "1: opaque\n4: opaque\n5: opaque\n12: opaque\n13: opaque\n")) ∷  -- random-053
    (codes " #c \\\n d\n #\\\\\\\n\na.b += %.c \\\n$# c\n$$: t\t${c} $ ; \n\t\\\n$x \tc: : \t${c}:  a&b  $(q:;=|)  $x #\0\n$(s\\):\\\r\n%.c .PHONY\\\n\\\n$$ |\\\n\t\\\r\n; a $(p #) \noverride define F \\\n\n$(q:;=|) t&::b $(p #)  |t # ", (codes "5:0: a.b += %.c $# c\n", codes "10:0: $(s\\): %.c .PHONY $$ [1]\n", codes "7: rough\nend: defines 1\n")) ∷  -- random-054
    (codes "foo :\\\n\t| $(f {)# x ; y : z = 1\nY! != $(m \\\n n) \\\\ #c \\\n d\n\tdefine Q\n", (codes "3:0: Y! != $(m n) \\\\\n", codes "1:0: foo: | $(f {) [0]\n", codes "end: defines 1\n")) ∷  -- random-055
    (codes " t1 ?= -include2 #\n$(p #)  ${g(} : ifdef := a\\ %.c\n%.o\\\\\na&b &: Y::=.PHONY t # c\n", (codes "1:0: t1 ?= -include2\n2:0: $(p #) ${g(}: ifdef := a\\ %.c\n", [], codes "3: opaque\n4: rough\n")) ∷  -- random-056
    (codes "c :\\\n\\\n$(q:;=|)\\\n\\\n${c} \n>endif\n$x &:foo Ã©\n> \n$x &: \noverride::=\\ \\\n${g(} \\\r\n $(s\\) =\n\\\\\n$$\neZ = 1\n\t\\\n+ ?= \\\n \\\n ${g(} \n", (codes "15:0: eZ = 1\n16:0: + ?= ${g(}\n", codes "1:0: c: $(q:;=|) ${c} [0]\n7:0: $x&: foo Ã© [0]\n9:0: $x&: [0]\n", codes "6: opaque\n8: opaque\n10: opaque\n13: opaque\n14: opaque\n")) ∷  -- random-057
    (codes " \n$$\\\nc:: -x_9+=  #c \\\n d\n", (codes "2:0: $$ c:: -x_9 +=\n", [], [])) ∷  -- random-058
    (codes "\t \n\tl", ([], [], codes "2: opaque\n")) ∷  -- random-059
    (codes "endef \\\n  ?=a ", (codes "1:0: endef ?= a\n", [], [])) ∷  -- random-060
    (codes "foo&: %.o\\\r\n${c} |a&b $(p #)\\\n\n\t\\\ndefie?=  \nY= \t", (codes "6:0: Y =\n", [], codes "1: rough\n")) ∷  -- random-061
    ([], ([], [], [])) ∷  -- random-062
    (codes "  \n\r\n\r", ([], [], codes "3: opaque\n")) ∷  -- random-063
    (codes "\r\n \\\n\r\nelse\r\na: \n \\\n\r\n>define\\\n$?+\r\nfoo :${c} | $(q:;=>|) \t.PHONY \r\n", ([], codes "5:0: a: [0]\n10:0: foo: ${c} | $(q:;=>|) .PHONY [0]\n", codes "4: opaque\n8: opaque\n")) ∷  -- random-064
    (codes "a&b  ::  # \\\n.PHONY %.c :CC!= a\\:b #\\&\\\n\n", ([], codes "1:0: a&b:: [0]\n", [])) ∷  -- random-065
    (codes "x.o y: $(a b)  %.o\n.endef\n$(p #)::: ${g(}  : x.o |$(a b)  %.o ; :a&b \\\n  ", ([], codes "1:0: x.o y: $(a b) %.o [0]\n", codes "2: opaque\n3: rough\n")) ∷  -- random-066
    (codes "x.o y: $(s\\) $(s\\)\nA+=  # x ; y : z = 1\neendef\n\\\\\n(:\\\n\\\\\n\n$\\\\!\n#\nifdef :::= \\# .PHONY $(f {)\\\n\\\n#\\\\\\\n\n\ta \\\n\tb\n\\\n\t\n>y\r\n>\\\n\ntecho a # b\n", (codes "2:0: A +=\n", codes "1:0: x.o y: $(s\\) $(s\\) [0]\n", codes "3: opaque\n4: opaque\n5: rough\n8: opaque\n10: opaque\n14: opaque\n18: opaque\n19: opaque\n21: opaque\n")) ∷  -- random-067
    (codes "b:   \nendef x", ([], codes "1:0: b: [0]\n", codes "2: opaque\n")) ∷  -- random-068
    (codes "\t \r\n$$ ::  #\r\n>t: u\r\nb :override >q \\\r\n :::=  1 = \r\nt1 =  ", (codes "4:0: b: override >q :::= 1 =\n6:0: t1 =\n", codes "2:0: $$:: [0]\n3:0: >t: u [0]\n", [])) ∷  -- random-069
    (codes ".RECIPEPREFIX = X\r\nx.o y: \n#\nX)=)\r\n\t\\\nb: a &b\t: a&b \t\n\\\n#c \\\n d\nx.o y: $(s\\) c\n>y\r\nendif # c\nendif\r\nx.o y: %.c\n>ifdef Z\n$x  $(q:;=|)  &:  >q?= \n>q+= \\\n${c} %.c \\\na\\:b# \r", (codes "1:0: .RECIPEPREFIX = X\n", codes "2:0: x.o y: [1]\n10:0: x.o y: $(s\\) c [0]\n14:0: x.o y: %.c [0]\n", codes "5: rough\n11: opaque\n12: opaque\n13: opaque\n15: opaque\n16: rough\n17: opaque\n")) ∷  -- random-070
    (codes "a.b := $(s\\) \nfoo $( b)&: foo\t%.c a \nA += \\\n \\\n | #c \\\n d\n\ta\\\ndefine \\\n \\\n !=\\\n\t\\\r\n-include2 1 \0 \nt1 +=  # c\n", (codes "1:0: a.b := $(s\\)\n3:0: A += |\n13:0: t1 +=\n", codes "2:0: foo $( b)&: foo %.c a [0]\n", codes "7: opaque\n")) ∷  -- random-071
    (codes "?\n>t: u\r\n \\\n\tendef # c\n # x ; y : z = 1\r\nx.o y: x.o x.o\r\n #\\\\\\\n", ([], codes "2:0: >t: u [0]\n6:0: x.o y: x.o x.o [0]\n", codes "1: opaque\n3: opaque\n")) ∷  -- random-072
    (codes "\\\n#c \\\n d\nA ?=x.o \t$(q:;=|) 2 3 \n\\\n\n\ta\\\\\n\ta\\\r\n>b\n A\\\n\t\\\r\n+=$(a b)#\n>q := \\\\\\\r\n\na&b:::  ; \\\n  $ \\\\ #c \\\n d\n", (codes "4:0: A ?= x.o \t$(q:;=|) 2 3\n10:0: A += $(a b)\n", [], codes "7: opaque\n8: opaque\n13: opaque\n15: rough\n")) ∷  -- random-073
    (codes "ifdef!=\t\r\n\r\nprivate a\\= += $(f {) #\0\r\ney\r\r\ne#c\r\nt1 := $x  #c \\\n d\r\n\tX = \\\\\\c \\\nc  #c \\\n d\r\n", (codes "1:0: ifdef !=\n6:0: t1 := $x\n8:0: X = \\\\\\c c\n", [], codes "3: opaque\n4: opaque\n5: opaque\n")) ∷  -- random-074
    (codes "define += \\\n  foo \t\na&b&::$(a b)\\\n\t\\\r\n;foo# c\n\t\\\no-$(a b) = a\\  \\\\\\\\\\\\\t\noverride\\\n\t!= \\\r\n#\\\\\nendef=\t| : \na&b:::$(a b) \t: \\\n  ${c}\t-include2 .PHONY \n.RECIPEPREFIX:=e\n", (codes "1:0: define += foo\n8:0: override !=\n11:0: endef = | :\n14:0: .RECIPEPREFIX := e\n", codes "3:0: a&b&:: $(a b) [2]\n", codes "12: rough\n")) ∷  -- random-075
    (codes ">%.c\t: %.c \t$\nx \r\n", ([], [], codes "1: rough\n2: opaque\n")) ∷  -- random-076
    (codes "a(\n${c} &: \\\r\n \t| ${c} b$(s\\) #\\\\\nY! :::=t.PHONY\\\na: a\nX :::=${u $(p #)\nendef#c\n\t$(f {) \t$(a b) \t: : a&b : b \t$(s\\)\t\n", (codes "4:0: Y! :::= t.PHONY a: a\n6:0: X :::= ${u $(p #)\n", codes "2:0: ${c}&: | ${c} b$(s\\) [0]\n", codes "1: opaque\n7: opaque\n8: opaque\n")) ∷  -- random-077
    (codes "\techo a # b\nt1 ?= %.o \\${ \nfoo: \n\t\r\n$x: foo : $(a b) x.o \r\nx.o\\\n\t &: $x $(a b)  a&b \nt:\\\r\n\r\nprivate Y :=\\ 1 \\# \\\r\n \r\n>x", (codes "2:0: t1 ?= %.o \\${ \n10:0: private Y := \\ 1 \\#\n", codes "3:0: foo: [1]\n5:0: $x: foo: $(a b) x.o [0]\n6:0: x.o&: $x $(a b) a&b [0]\n8:0: t: [0]\n", codes "1: opaque\n12: opaque\n")) ∷  -- random-078
    (codes "-include2&:: -include2 c | $(p #)  $(a b)\r\nifdef A\r\nfoo: \n\t$(\n-include b c\na.b ::=\\\\  b \t=\r\nc: x.o: ; \r\n # \r\nA+=  \\\r\n #\n\t$(\n", (codes "6:1: a.b ::= \\\\  b \t=\n9:1: A +=\n", codes "1:0: -include2&:: -include2 c | $(p #) $(a b) [0]\n3:1: foo: [1]\n7:1: c: x.o: [1]\n", codes "11: opaque\nend: conditionals 1\n")) ∷  -- random-079
    (codes "$(a b)&: ${c} ;\\\n\t\\\r\n \n$x: $(u  $(a b)  $(f {) \nfoo: \nax\n\\bX=define:$\n$(X) += \\# \nY = \n\ta \\\n\tb\nA!=\\\r\n1 \\\n$$", (codes "7:0: \\bX = define:$\n8:0: $(X) += \\#\n9:0: Y =\n12:0: A != 1 $$\n", codes "1:0: $(a b)&: ${c} [1]\n5:0: foo: [0]\n", codes "4: rough\n6: opaque\n10: opaque\n")) ∷  -- random-080
    (codes "\t\\\n\t\\\n\nendef(=\\\n$\n\t#c\n", (codes "4:0: endef( = $\n", [], [])) ∷  -- random-081
    (codes "\t\n> u\n$(p #):%.o $(s\\)\\\nx.o# \\(\n-x_9 :=\\\n #\0\nels$e ifdef Q", ([], codes "3:0: $(p #): %.o $(s\\) x.o [0]\n", codes "2: opaque\n5: opaque\n7: opaque\n")) ∷  -- random-082
    (codes " \\\n\tCC ::=\\$x\r\n\ta\\\r\n>b\r\n$(q:;=|) : ${g(}  foo ;a\\:b \\# \r \r\n define \r\nendef\nendef#c\r\n", (codes "1:0: CC ::= \\$x\n", [], codes "3: opaque\n5: opaque\n8: opaque\n")) ∷  -- random-083
    (codes "\t\n #\0\nt&::x.o; $(f {) $\\\r\n\\\n\t\\\r\n\nb\\\ndefine\t\\\n=$\n\n:>\n\t\\\n|\r\t\\\n#?X>: endef+\na: a&b\nifeq (a,$(b\n\tZ = 1\n\tendef\n", ([], codes "3:0: t&:: x.o [1]\n11:0: : > [1]\n15:0: a: a&b [2]\n", codes "7: opaque\nend: conditionals 1\n")) ∷  -- random-084
    (codes "x.o c:  \n \n\tx\n \n=A =\n#", ([], codes "1:0: x.o c: [1]\n", codes "5: opaque\n")) ∷  -- random-085
    (codes "\texport\tendef := $(m \\\n n) \n ::\\\n\\\na.b?= b x.o \r\n", (codes "1:0: export endef := $(m n)\n3:0: :: a.b ?= b x.o\n", [], [])) ∷  -- random-086
    (codes "$x:::   \r\n>q?= .PHONY =\r\n", (codes "2:0: >q ?= .PHONY =\n", [], codes "1: rough\n")) ∷  -- random-087
    (codes "$(p #) : \r\nexport .RECIPEPREFIX?=\\\n:\r\nx.o\t$(u:x.o  ${c} #\0\r\n #\r\n${c} :: \\\n \\\n \t\r\n>q =  foo \r\nifdef A\r\n", (codes "2:0: export .RECIPEPREFIX ?= :\n9:0: >q = foo\n", codes "1:0: $(p #): [0]\n6:0: ${c}:: [0]\n", codes "4: opaque\nend: conditionals 1\n")) ∷  -- random-088
    (codes "o-$(a b) \\\n \\\n +=-include2 : \r\n?>\\\n\\\\\n\n \\\n\tendef\r\n$(s\\): a&b ; \\\r\n \\\n\t# \r\na: \n\t# \r\n export private define \r\n\t\\\n\r\nCC:::=\0 a%.o\\\\\n#\0\r\nifdef ?=\t ", (codes "1:0: o-$(a b) += -include2 :\n", codes "9:0: $(s\\): a&b [1]\n12:0: a: [1]\n", codes "4: opaque\n7: opaque\nend: defines 1\n")) ∷  -- random-089
    (codes "X  != \\\n  c: \\\n\na: b\\\n%.c\nifndef X # c\n\ta \\\n\tb\n\t\na .PHONY :::${c} : \ta&b \n\ta \\\n\tb\n\tt: u\n>x\nelse\nCC ?==  # x ; y : z = 1\nifeq (a,$(b\n ", (codes "1:0: X != c:\n16:1: CC ?= =\n", codes "4:0: a: b %.c [2]\n", codes "10: rough\n14: opaque\nend: conditionals 2\n")) ∷  -- random-090
    (codes "i$fndef X # c\r\n", ([], [], codes "1: opaque\n")) ∷  -- random-091
    (codes ".RECIPEPREFIX = e\r\noverride a.b\t=\\\nc \r\nifneq\r\nCC ?= x.o$$\\\n #\\\\\\\n\r\nfoo: |\\\n${g(} \t$x ; foo ; a\\  # x ; y : z = 1\r\nx.o y: -iclude2\r\n$;&:: x.o| #\r\n", (codes "1:0: .RECIPEPREFIX = e\n2:0: override a.b = c\n", codes "8:1: foo: | ${g(} $x [1]\n10:1: x.o y: -iclude2 [0]\n", codes "5: opaque\n11: rough\nend: conditionals 1\n")) ∷  -- random-092
    (codes "\t\\\n}!\nx.o y: \n\techo a # b\nendef := .PHONY \\\r\n $#\\\n$(f {) # \r\n\t#c\nCC :::= a&b\n>x\n\tx\n t &::;a  \n$$ a&b : |\t-include2\tt \nendif\n\t$(\n>a\\\\\n", (codes "5:0: endef := .PHONY $# $(f {)\n9:0: CC :::= a&b\n", codes "3:0: x.o y: [1]\n12:0: t&:: [1]\n13:0: $$ a&b: | -include2 t [0]\n", codes "1: opaque\n10: opaque\n11: opaque\n14: opaque\n15: opaque\n16: opaque\n")) ∷  -- random-093
    (codes "$(a b) x.o\\\r\n&: \\\n \\\n ifdef ?= $\\\n  \r\nx.o y: -include2\neifdef Z\n>\\\n\nt \r\n.ifdef Z\n-include2\\\n%.c :\t%.c $(s\\) \t\na: .PHONY\n>\\\n\na.b +=  # \\\r\nendif # c\r\n>ifdef Z\n", (codes "17:0: a.b +=\n", codes "6:0: x.o y: -include2 [0]\n12:0: -include2 %.c: %.c $(s\\) [0]\n14:0: a: .PHONY [0]\n", codes "1: rough\n7: opaque\n8: opaque\n10: opaque\n11: opaque\n15: opaque\n19: opaque\n")) ∷  -- random-094
    ([], ([], [], [])) ∷  -- random-095
    (codes "\\\tfoo: $(a b) \t${g(} \n>$(\n$x : -include2 a \n\ta\\\\\n$(a b) c :: CC +=x.o\\\r\nb\\\n\t\\\r\n=\nelse ifdef Q\n\t# x ; y : z = 1\n", (codes "5:0: $(a b) c:: CC += x.o b =\n", codes "3:0: $x: -include2 a [1]\n", codes "1: rough\n2: opaque\n9: opaque\n10: opaque\n")) ∷  -- random-096
    (codes ".RECIPEPREFIX = e\nexport \tY \t:= $(f {) c \nifndef X # c\n\tx\nexport CC?= ;\t${u$(s\\)\n\t#c\n", (codes "1:0: .RECIPEPREFIX = e\n2:0: export Y := $(f {) c\n", [], codes "4: opaque\n5: opaque\nend: conditionals 1\n")) ∷  -- random-097
    (codes "foo &: -include2\t$(q:;=|)\\\n$(f {)\\\n\t| \\\n  t ; a\\:b\\ \\\\ \r\n\tifdef ?= 1 \r\n \\\n\tdefine .RECIPEPREFIX\r\n", ([], codes "1:0: foo&: -include2 $(q:;=|) $(f {) | t [2]\n", codes "end: defines 1\n")) ∷  -- random-098
    (codes "\t\\\n\n", ([], [], [])) ∷  -- random-099
    (codes "$(s\\) :  ${g(}\n\ty\r\nb:${g(}\\\n\n>x\nA?= $  \t\n", (codes "6:0: A ?= $ \n", codes "1:0: $(s\\): ${g(} [1]\n3:0: b: ${g(} [0]\n", codes "5: opaque\n")) ∷  -- random-100
    []

answers_2 : map (λ row. let lines = document_lines row.0 in (vars_text None lines, rules_text None lines, check_text lines)) rows_2 ≡ map (λ row. row.1) rows_2
unfolding digits
answers_2 = refl

abbrev rows_3 : List (List ℕ × (List ℕ × List ℕ × List ℕ))
rows_3 =
    (codes "\n{endef|\t\\\n=\nCC?=  #\\\\\n", (codes "2:0: {endef| =\n4:0: CC ?=\n", [], [])) ∷  -- random-101
    (codes "else ifdef Q\n \\\n\t${g(}  $(s\\) :: override :=\t\r \n\\#x ::=\t# c\nx.o&::  ;\\\r\n\n>q := a\\  \ndefine E # c\n>$(a b): a&b  :$x $(f {) \n", (codes "4:0: \\#x ::=\n7:0: >q := a\\ \n", codes "5:0: x.o&:: [1]\n", codes "1: opaque\n2: opaque\nend: defines 1\n")) ∷  -- random-102
    (codes "%.c  &: $x a&b  foo# \\\n\\\nendef += $x2 #c \\\n d\r\n\ta: \\\n \\\n  ;\\\n\\\n\0 x  y : \n\\\n$(s\\) &::$x\t: $(f {)\nendef += $\\\n \\\\\\\n\n", ([], codes "1:0: %.c&: $x a&b foo [1]\n", codes "10: rough\n12: opaque\n")) ∷  -- random-103
    (codes "vpath %.c a\n  : a.b!= \\ #c \\\n d\n\tx\n\tendif\n$(s\\):$$ ;  \\\\", (codes "2:0: : a.b != \\ \n", codes "6:0: $(s\\): $$ [1]\n", codes "4: opaque\n5: opaque\n")) ∷  -- random-104
    (codes "#c \\\n d\n\t\\\n%.o :%.o\\\n\\\n: t \tb \\\n \\\n \n\t \n", ([], [], codes "3: opaque\n9: opaque\n")) ∷  -- random-105
    (codes "b : \\\n.=ONY  b \\\n  ! \n>a \\\n\tb\n>\\\n\r\n\t?a \r\n", (codes "1:0: b: . = ONY  b !\n", [], codes "4: opaque\n6: opaque\n8: opaque\n")) ∷  -- random-106
    (codes "endif\r\n$\\:\\\n${c} : foo \\\n \\\\\\\n\n %.c #\\\\\\\n\r\n$(s\\):\\\n\\\n$() \\\r\n |  \n\ta\\\n>x\r\nCC\\\n\\\n:=$# $#$\\\n  \r\n$x:: $; \r\n.a\\\r\n", (codes "14:0: CC := $# $#$ \n", codes "8:0: $(s\\): $() [1]\n18:0: $x:: $; [0]\n", codes "1: opaque\n2: opaque\n6: opaque\n19: opaque\n")) ∷  -- random-107
    (codes ".PHONY $$  : ", ([], codes "1:0: .PHONY $$: [0]\n", [])) ∷  -- random-108
    (codes "a: \n \\\n\n\techo a # b\n>\\\n\r\nY !=$(a b)$(a b)\t${u\t\r\nt::: $(p #) :$(s\\) \tb  b # x ; y : z = 1\r\n>q\\\n\\\n:::=  # \r\r\n.PHONY:$$ \\\n# \r\r\n\t \r\nta\\\r\n>b\r\n$(f {) :$(a b) ; x.o x  y\r\n", (codes "7:0: Y != $(a b)$(a b)\t${u\t\n", codes "1:0: a: [1]\n17:0: $(f {): $(a b) [1]\n", codes "5: opaque\n8: rough\n9: opaque\n12: opaque\n14: opaque\n15: opaque\n")) ∷  -- random-109
    (codes "\techo a # b\r\n${c;} ::: \\\n  %.o \tx=1 \r\n\t ", ([], [], codes "1: opaque\n2: rough\n")) ∷  -- random-110
    (codes "foo: $(f {) $(f {)\n \\\n\n%.c\\\n\t.PHONY: $(q:;=|) \\\n$x -include2 \net: u\n", ([], codes "1:0: foo: $(f {) $(f {) [0]\n4:0: %.c .PHONY: $(q:;=|) $x -include2 [0]\n7:0: et: u [0]\n", [])) ∷  -- random-111
    (codes "t x.o \t:: Y:::=$x \t= b\noverride\t=\\$x \\\n\n:: export \\#x  +=\tx  y \nexport .RECIPEPREFIX\\\n\t\\\r\n::= a&b  $\\\r\n \\\n  foo\nt \n", (codes "1:0: t x.o:: Y :::= $x \t= b\n2:0: override = \\$x\n4:0: :: export \\#x += x  y\n5:0: export .RECIPEPREFIX ::= a&b  $ foo\n", [], codes "10: opaque\n")) ∷  -- random-112
    (codes "${g(} : $(a b) : \t$(p #)\t%.o \t-include2 \r\nb: | ${c}\r\nx.o &: $(p #)\tfoo \t%.o? \\\n;\\\r\n \t\n\t\0\r\n", ([], codes "1:0: ${g(}: $(a b): $(p #) %.o -include2 [0]\n2:0: b: | ${c} [0]\n3:0: x.o&: $(p #) foo %.o? [2]\n", [])) ∷  -- random-113
    (codes "x.o y: ${g(} \t$(p #)\n\tt: u\n.endif\r\n>q?= 1foo\r\n#\\\\\r\n\t-include2 :  a&b \r\n\t\\\n%.o &: foo\r\n>t: u\r\n", (codes "4:0: >q ?= 1foo\n", codes "1:0: x.o y: ${g(} $(p #) [1]\n9:0: >t: u [0]\n", codes "3: opaque\n6: opaque\n7: opaque\n")) ∷  -- random-114
    (codes ".RECIPEPREFIX = t\r\nX \t::=\r\n\r\n", (codes "1:0: .RECIPEPREFIX = t\n2:0: X ::=\n", [], [])) ∷  -- random-115
    ([], ([], [], [])) ∷  -- random-116
    (codes "endef\n \n", ([], [], codes "1: opaque\n")) ∷  -- random-117
    (codes "${c}  b: $x\r\n%.c:$$ \\\n  $x .PHONY|\\\r\n$; x.o \\\n\r\n\t$(\r\na\t:: X::= \\\r\n  \r\noverride \t?= a-include2 a\\:b  \r\nt$(\r\n>x\r\nfoo: $(q:;=|)\n\nendif\r\n", (codes "7:0: a:: X ::=\n9:0: override ?= a-include2 a\\:b\n", codes "1:0: ${c} b: $x [0]\n12:0: foo: $(q:;=|) [0]\n", codes "2: rough\n10: opaque\n11: opaque\n14: opaque\n")) ∷  -- random-118
    (codes ".PHONY& $g(}\tc  $(p #) # x \0; y : z = 1\n\t$(\nX != $$ 2 3 \\\n \\\n # c\n", (codes "3:0: X != $$ 2 3\n", [], codes "1: opaque\n2: opaque\n")) ∷  -- random-119
    (codes "\\\n\n\t\\\n)\\?\t\\;\n\n\tendef=", ([], [], codes "3: opaque\n6: opaque\n")) ∷  -- random-120
    (codes "?$(a;b)&:: x.o : c %.o \n$(q:;=|)\\\\\n &: t t a&b# \r\n endef\n", ([], codes "3:0: &: t t a&b [0]\n", codes "1: rough\n2: opaque\n4: opaque\n")) ∷  -- random-121
    (codes "aa\\\r\n\ta.b  =  # \\", ([], [], codes "1: opaque\n")) ∷  -- random-122
    (codes "a&b :%.o -include2 $(q:;=|) \n>\\\n\n>a&b: \\\r\n $$ %.c ; $(m \\\n n)\n# c\na.b ::= %.o\\\n\t\\\r\nb\\\r\n$(q:;=|) \n>a \\\n\tb\n", (codes "8:0: a.b ::= %.o b $(q:;=|)\n", codes "1:0: a&b: %.o -include2 $(q:;=|) [0]\n4:0: >a&b: $$ %.c [1]\n", codes "2: opaque\n12: opaque\n")) ∷  -- random-123
    (codes ".RECIPEPREFIX = :\r\nexport define\r\na: $(s\\)", (codes "1:0: .RECIPEPREFIX = :\n", [], codes "end: defines 1\n")) ∷  -- random-124
    (codes "a: c\\\r\n$(a b)\neZ = 1\n", (codes "3:0: eZ = 1\n", codes "1:0: a: c $(a b) [0]\n", [])) ∷  -- random-125
    (codes " # \\\ne\n\ta\\\\\nX}}##!\ntecho a # b\ntelse\r", ([], [], codes "3: opaque\n4: opaque\n5: opaque\n6: opaque\n")) ∷  -- random-126
    (codes ".RECIPEPREFIX = >\r\n #\r\n\tendef\r\n\tZ = 1\r\nx.o y: a&b $(p #)\n\t \n\n>$(", (codes "1:0: .RECIPEPREFIX = >\n4:0: Z = 1\n", codes "5:0: x.o y: a&b $(p #) [1]\n", codes "3: opaque\n")) ∷  -- random-127
    (codes "$(q:;=|) \\\n \\\n ${c}::\\#x ?= 2 3 \0$(p #) \r\noverride define X =\r\n$(p #): ${c} \tx.o $(a b) \r\n\t\\\n\r\na: t\nendif\n\tx\r\n", ([], [], codes "1: opaque\nend: defines 1\n")) ∷  -- random-128
    (codes "{X\n\r\n", ([], [], codes "1: opaque\n")) ∷  -- random-129
    ([], ([], [], [])) ∷  -- random-130
    (codes "override override :=1#\r\n$(p #)&::  \nea\\\r\n>b\r\n$$:  \n\ta\\\\\r\n${c} :: $(q:;=|)\t.PHONY | $(f {) $$ \r\n{\n&\0\n.RECIPEPREFIX?=Ã\r\n", (codes "1:0: override override := 1\n10:0: .RECIPEPREFIX ?= Ã\n", codes "2:0: $(p #)&:: [0]\n5:0: $$: [1]\n7:0: ${c}:: $(q:;=|) .PHONY | $(f {) $$ [0]\n", codes "3: opaque\n8: opaque\n9: opaque\n")) ∷  -- random-131
    (codes "$(p #\\\n  -include2 :\\\n\\\n%.c %.o\\\r\n\n>a\\\\\nendef\n", ([], [], codes "1: opaque\n6: opaque\n7: opaque\n")) ∷  -- random-132
    (codes "-x_9 =\\\n$\\\n \r\n\\\n:A !=foo -include2#c \\\n d\r\noverride ?= | \r\na?\nb\\\\\n:;\0\r\n : Y :::= c \\\n\r\ndefine F \\\n\r\n", (codes "1:0: -x_9 = $ \n4:0: : A != foo -include2\n7:0: override ?= |\n11:0: : Y :::= c\n", [], codes "8: opaque\n9: opaque\n10: opaque\nend: defines 1\n")) ∷  -- random-133
    (codes "# x ; y : z = 1\nfoo  &: c a \t|$(q:;=|)\\\n\\\n$$ \n # x ; y : z = 1\n${g(} : $(a b)\\\r\n$\t |  \n\tendif\n&:t1 = #\\\\", ([], [], codes "2: rough\n6: rough\n9: rough\n")) ∷  -- random-134
    (codes "CC\t:=  #\0\nifdef\n \\\n :::= \\# \nelse ifdef Q\nt1 +=$ #\\\\\n\ta\\)\n.a\\\r\n>b#\nea =\tb\n\tZ = 1\n", (codes "6:1: t1 += $ \n10:1: ea = b\n11:1: Z = 1\n", [], codes "1: opaque\n3: rough\n7: opaque\n8: opaque\nend: conditionals 1\n")) ∷  -- random-135
    (codes "ifdef A\r\nb :::%.o a&b \r\n.c &:\r:   \\\\\nnclude a\nifdef ::=  \r\n(\\\n$}\t\\\n\n\t\\\n-include2: : -include2:  ", (codes "5:1: ifdef ::=\n", [], codes "2: rough\n3: opaque\n4: opaque\n6: opaque\n9: opaque\nend: conditionals 1\n")) ∷  -- random-136
    (codes "#c \\\n d\r\n\t\\\nX :::= %.o $(m \\\n n) \\\n \\\n x.o \n", (codes "3:0: X :::= %.o $(m n) x.o\n", [], [])) ∷  -- random-137
    (codes "|!define=#\t\\\n> \nX != ; \n$(s\\)::|a:b ${c}\\\n\r\n\\\nX ?= \tc", (codes "1:0: |!define =\n3:0: X != ;\n6:0: X ?= c\n", [], codes "4: rough\n")) ∷  -- random-138
    (codes "\r\n\ta\\\n", ([], [], codes "2: opaque\n")) ∷  -- random-139
    (codes ".\n${c} \\\n  a: -\\include2\t%.o\na: %.o\\\n\t\0.:\nx.o \\\r\n : ${c} \\\n  ", ([], codes "6:0: x.o: ${c} [0]\n", codes "1: opaque\n2: rough\n4: opaque\n")) ∷  -- random-140
    (codes "foo &: $(q:;=|) \t${g\t\\\n} \t.PHONY #\\\\\rX", ([], [], codes "1: opaque\n")) ∷  -- random-141
    (codes "foo $(a b) :\\\n\n\n#\\\\\n\0\\\n\tprivate\n\t\\\n\naa\\\\\n", ([], codes "1:0: foo $(a b): [0]\n", codes "5: opaque\n7: opaque\n9: opaque\n")) ∷  -- random-142
    (codes "\ta\\\r\n>b\n${g(}&:: $(q:;=|)\t$(q:;=|) \\\na ; x  y a&b $(p #) \n> \n -include2\t&:: \\\n | a&b ; b # c\n$$: %.c\t(a b) \t| \n\n>t: u\nY::=  \\\r\n \n\\#x ?=\\\n\\\n ", (codes "11:0: Y ::=\n13:0: \\#x ?=\n", codes "3:0: ${g(}&:: $(q:;=|) $(q:;=|) a [1]\n6:0: -include2&:: | a&b [1]\n8:0: $$: %.c (a b) [0]\n10:0: >t: u [0]\n", codes "1: opaque\n5: opaque\n")) ∷  -- random-143
    (codes "\t \nifneq\n\tendif\n>t: u\nt a\\\r\n&: \\\n  CC ::=\\\n\tt \n", ([], codes "4:0: >t: u [0]\n", codes "5: rough\n")) ∷  -- random-144
    (codes "$x&:\t\n\ty\r\r\n>else\r\na&b: :a .PHONY  foo |\\\n\t\\\r\n \\\r\n ;\\\\\n\ntelse\na: $(s\\)\n.t: u\r\n", ([], codes "1:0: $x&: [1]\n10:0: a: $(s\\) [0]\n11:0: .t: u [0]\n", codes "3: opaque\n4: rough\n9: opaque\n")) ∷  -- random-145
    (codes "\t \n>a\\\r\n>b\n\tendef # c\n$(f {)\\\n\t\\\r\n:  $(a b) ${c} %.c |\t-include2\\\n\t\\\r\n\n$(f {) : ${g(}\t:\nCC \t=#\\\\\\\n\n b: : \\\r\n ${g(}\n", ([], codes "5:0: $(f {): $(a b) ${c} %.c | -include2 [0]\n10:0: $(f {): ${g(}: [0]\n", codes "2: opaque\n4: opaque\n11: opaque\n13: rough\n")) ∷  -- random-146
    (codes "x.o y: \n\t \r\n$$ :: \r\n", ([], codes "1:0: x.o y: [1]\n3:0: $$:: [0]\n", [])) ∷  -- random-147
    (codes " # \r\na: \n\t$(\nif}eq\n\ty\r\nexport\n", ([], codes "2:0: a: [1]\n", codes "4: opaque\n5: opaque\n")) ∷  -- random-148
    (codes "x.o y: $x $(q:>;=|)\n\ta\\\\\noverri\\de endefdefine X\n ende#c\n", ([], codes "1:0: x.o y: $x $(q:>;=|) [1]\n", codes "3: opaque\n4: opaque\n")) ∷  -- random-149
    (codes ".RECIPEPREFIX = $$\nfoo: x.o  %.o\n\tZ = 1\n$(p #) : %.c # \\\n$(q:;=|)  &: x.o $x .PHONY#c \\\n d", (codes "1:0: .RECIPEPREFIX = $$\n", codes "2:0: foo: x.o %.o [1]\n4:0: $(p #): %.c [0]\n", [])) ∷  -- random-150
    []

answers_3 : map (λ row. let lines = document_lines row.0 in (vars_text None lines, rules_text None lines, check_text lines)) rows_3 ≡ map (λ row. row.1) rows_3
unfolding digits
answers_3 = refl

abbrev rows_4 : List (List ℕ × (List ℕ × List ℕ × List ℕ))
rows_4 =
    (codes "\t$(\n$(s\\)&: t1 != \no $# $#\nendef # c\n", ([], [], codes "1: opaque\n2: rough\n3: opaque\n4: opaque\n")) ∷  -- random-151
    (codes " private\r\n>\\\n\r\n$x:$(a b)| c#\\\\\\\n\r\n #\\\\\\\n\r\nY += \\\n  t  \r\n", (codes "8:0: Y += t\n", [], codes "1: opaque\n2: opaque\n4: opaque\n")) ∷  -- random-152
    (codes " \\\n\tendef#c\n\t#c\n$\nexport privat define D\nfoo: -include2\n\t\nb \t::  \\\n|\\\n\t\\\r\n.PHONY  foo \n", ([], codes "6:0: foo: -include2 [1]\n8:0: b:: | .PHONY foo [0]\n", codes "1: opaque\n3: opaque\n4: opaque\n")) ∷  -- random-153
    (codes "\t\\\nendif\r\n\t\r\n# x ; y : z = 1\r\n \r\nendif\r\n.PHONY: $$ b c\\\n#\\\\\\\n\n# \\", ([], [], codes "1: opaque\n3: opaque\n6: opaque\n7: opaque\n")) ∷  -- random-154
    (codes "ifeq (a,$(b\n#c \\\n d\r\n\t\r\nexport X\n override\t.REIPEPREFIX\\\n\t:::= $  1 ", (codes "6:1: override .REIPEPREFIX :::= $  1\n", [], codes "end: conditionals 1\n")) ∷  -- random-155
    ([], ([], [], [])) ∷  -- random-156
    (codes ">$(\r\n\tt: u\r\n\\\\\n&?$(define\ndefine\r\n\\\n\r\n.RECIPEPREFIX+=t\r\n", ([], [], codes "1: opaque\n2: opaque\n3: opaque\n4: opaque\nend: defines 1\n")) ∷  -- random-157
    (codes "endif # c\r\n# c\r\n", ([], [], codes "1: opaque\n")) ∷  -- random-158
    (codes ".RECIPEPREFIX = :\nY+=  \n\t#\0\n$(a b)\\\r\n$(p #) &: a&b x.o $(q:;=|) # c\nfoo: \n\ta \\\n\tb\n\tZ = 1\noverride  t1 += ; a\\:b# c\n", (codes "1:0: .RECIPEPREFIX = :\n2:0: Y +=\n9:0: Z = 1\n10:0: override t1 += ; a\\:b\n", codes "4:0: $(a b) $(p #)&: a&b x.o $(q:;=|) [0]\n6:0: foo: [0]\n", codes "7: opaque\n")) ∷  -- random-159
    (codes ">\n\tdefine Q\n#define\n$\\{endef& ?\r\\;\\\n\nadefine Q\n", ([], [], codes "1: opaque\n2: opaque\n4: opaque\n6: opaque\n")) ∷  -- random-160
    (codes ".RECIPEPREFIX = :\r\na \\\n$$ :\\\n\tifdef := \t #\0\r\n endif", (codes "1:0: .RECIPEPREFIX = :\n", [], codes "2: opaque\n5: opaque\n")) ∷  -- random-161
    (codes "\\\n# \\\n$(s\\): $(s\\) ${c}\t|\n>ifdef\\\nB\nprivate\\\n\t\\\r\nexport .RECIPEPREFIX= a $(m \\\n n) #\\\\\n#c \\\n d\nifdef :::= = \nelse\n", (codes "6:0: private export .RECIPEPREFIX = a $(m n)\n12:0: ifdef :::= =\n", [], codes "4: opaque\n13: opaque\n")) ∷  -- random-162
    (codes ".RECIPEPREFIX = c\nA ?=  \nY=\\\\\\\\\n; \\\n  ", (codes "1:0: .RECIPEPREFIX = c\n2:0: A ?=\n3:0: Y = \\\\\\\\\n", [], codes "4: opaque\n")) ∷  -- random-163
    (codes "t&:: $(s\\) t \\\n \\\n ; \n", ([], codes "1:0: t&:: $(s\\) t [1]\n", [])) ∷  -- random-164
    (codes ".RECIPEPREFIX  c\r\nendef ?= | \\\n  #c& \\\n d\r\nifdef A\r\n\\\n#\\\\\\\n\r\nCC \t:::= \\# \n\tendif\r\nelse ifdef Q\r\n# \r\r\nX$ !=\\\\ #\0\n+\\\n\t\n!=  #\r\n", (codes "2:0: endef ?= |\n9:1: CC :::= \\#\n", [], codes "1: opaque\n11: opaque\n13: opaque\n14: opaque\n16: opaque\n")) ∷  -- random-165
    (codes "\\\n# c\noverride ::= \\\n \\\n \n>t1  ::=\n", (codes "3:0: override ::=\n6:0: >t1 ::=\n", [], [])) ∷  -- random-166
    (codes " X$::=2 3\\\n#\0\n-x_9 :::=  -include2\t\r\nx.o y: $$ \t%.c\n\tendif\noverride define E # c\r\nifdef\\\nB\n$(q:;=|) \t&:${c} ${g(} a \nx.o y: a&b $(s\\)", (codes "3:0: -x_9 :::= -include2\n", codes "4:0: x.o y: $$ %.c [1]\n", codes "1: opaque\nend: defines 1\n")) ∷  -- random-167
    ([], ([], [], [])) ∷  -- random-168
    (codes "b : endef == $ \t\r\n$(q:;=|):  \\\r\n #\n\\\\\n=}$\r\n${}  x.o:  \nfoo: $(p #) a\n>endef\nelse\n &:private export \tY\\\n\t\\\r\n:::= $\r\n>y\r\nY := # \r\r\n", (codes "1:0: b: endef = = $ \n", codes "2:0: $(q:;=|): [0]\n6:0: ${} x.o: [0]\n7:0: foo: $(p #) a [0]\n", codes "4: opaque\n5: opaque\n8: opaque\n9: opaque\n10: rough\n13: opaque\n14: opaque\n")) ∷  -- random-169
    (codes "+ )$|{{\r\n=\r\n$(s\\)::: \n\t$(\r\n\ta\\\r\n.RECIPEPREFIX =t\r\n\t\\\noverride != \\\n \\\n\r\n>$(\r\n", ([], [], codes "1: opaque\n2: opaque\n3: rough\n11: opaque\n")) ∷  -- random-170
    (codes ">\r\n>q \t?= $(p #) \r\\# #\0\r\n\r\na: $$\n\tifdef Z\nifneq\r\n", ([], codes "4:0: a: $$ [1]\n", codes "1: opaque\n2: opaque\nend: conditionals 1\n")) ∷  -- random-171
    (codes ".RECIPEPREFIX=\\\nt\n", (codes "1:0: .RECIPEPREFIX = t\n", [], [])) ∷  -- random-172
    ([], ([], [], [])) ∷  -- random-173
    (codes "\\\n$(definep #b\n\t\\\r\n%.o \t&:\t \n", ([], [], codes "1: opaque\n3: opaque\n")) ∷  -- random-174
    (codes ".RECIPEPREFIX = -\n>q ?=$({) 2 3 \t\n\t \noverride = \ta $# \ntendef", (codes "1:0: .RECIPEPREFIX = -\n2:0: >q ?= $({) 2 3\n4:0: override = a $#\n", [], codes "5: opaque\n")) ∷  -- random-175
    (codes "Y ::=  \n\t \n\tb: foo \t\r\nexport A\t:::=%.o$\\\r\nfoo \nifdef := c $\\\n\t\\\r\n$(q:;=|) \t#\n+ :X\r\n", (codes "1:0: Y ::=\n4:0: export A :::= %.o$ foo\n6:0: ifdef := c $ $(q:;=|)\n", codes "9:0: +: X [0]\n", codes "3: opaque\n")) ∷  -- random-176
    (codes " \\\n\t${c}: $(f {) ;\\\n\t\\\r\n$(m \\\n n) $x a\\\n\\\n\nifdef A\na -include2:: a\\=\\\n\t!= \\ \\\r\n #\\\\\\\n\nb ::\\\r\n$(s\\)\\\n\t\\\r\n\n#\\\\\nfoo\tb :: ifdef :::=\\\n\t\\\r\nfoo ${c}$x\na: x.o !\n# x ; y : z = 1\nX :=\\$x \\\n  a\\:b# c\n\t\\\n", (codes "18:1: foo b:: ifdef :::= foo ${c}$x\n23:1: X := \\$x a\\:b\n", codes "1:0: ${c}: $(f {) [1]\n13:1: b:: $(s\\) [0]\n21:1: a: x.o ! [0]\n", codes "9: opaque\n25: opaque\nend: conditionals 1\n")) ∷  -- random-177
    (codes "\tendef\r\n.PHONY \ta: $(a b) $(a b) t # c\r\nendef x\r\n.PHONY $(q:;=|):$(a b)\n>$(\n\\\n\t\n>a\\\\\r\n-include2 : foo\\\r\n\r\n#c \\\n d\r\n# \r\r\n%.c::  | x.o \r\nfoo: \n\techo a # b\r\n", ([], codes "2:0: .PHONY a: $(a b) $(a b) t [0]\n4:0: .PHONY $(q:;=|): $(a b) [0]\n9:0: -include2: foo [0]\n14:0: %.c:: | x.o [0]\n15:0: foo: [1]\n", codes "1: opaque\n3: opaque\n5: opaque\n8: opaque\n")) ∷  -- random-178
    ([], ([], [], [])) ∷  -- random-179
    (codes ">a\\\\\nendif\n$$ $(f {)&::%.c \\\n  $(q:;=|)\ta&b \\\n \\\n |   \ndefine : : \t \nX$ +\\\\\n= ${c} \nifdef::= t  \nifdef A\nx.o y: a&b\nt#c", ([], codes "3:0: $$ $(f {)&:: %.c $(q:;=|) a&b [0]\n", codes "1: opaque\n2: opaque\nend: defines 1\n")) ∷  -- random-180
    (codes "$(a b) $(q:;=|) &: t | $(a b)#\0\r\na: \n\nneq\n \r\n\tx.o ::: # c\r\n", ([], codes "2:0: a: [0]\n", codes "1: opaque\n4: opaque\n6: opaque\n")) ∷  -- random-181
    (codes ">echo a # b\nelse ifdef Q\n", ([], [], codes "1: opaque\n2: opaque\n")) ∷  -- random-182
    (codes " a&b  %.c :  \r\n\ta\\\\\r\n\ta \\\n\tb\r\n>q != $(w \\\n \r\n.RECIPEPREFIX += a\r\n\telse\r\nprivate private  X  :::= \\\r\n %.o \\\r\n $(q:;=|) \\\n  %.o \r\ndefine+= $x \r\n\\\n$(p #): #\0\r", (codes "5:0: >q != $(w \n7:0: .RECIPEPREFIX += a\n9:0: private private X :::= %.o $(q:;=|) %.o\n13:0: define += $x\n", codes "1:0: a&b %.c: [2]\n", codes "8: opaque\n14: opaque\n")) ∷  -- random-183
    (codes "aendif\n>override X\n#c \\\n d\nt\td|  :define +=  \n>define Q\n\ty\r\n", (codes "5:0: t d|: define +=\n", [], codes "1: opaque\n2: opaque\n6: opaque\n7: opaque\n")) ∷  -- random-184
    (codes ".PHONY  c &| \\\n \\\n  \r\n\t# c\r\n", ([], [], codes "1: opaque\n4: opaque\n")) ∷  -- random-185
    ([], ([], [], [])) ∷  -- random-186
    (codes ".RECIPEPRFIX = .\n%.o \\\n \\\n :: x.o $x ;\\\r\n2 3 \n$(f {) |d : a\ndefine D\nfoo: \n \n.RECIPEPREFIX= \\\n; # x ; y : z = 1\na&b ${g(}&:: $(s\\) $= %.c |#\nfoo: $(s\\)\n\\\n# x ; y : z = 1\n>#c", (codes "1:0: .RECIPEPRFIX = .\n", codes "2:0: %.o:: x.o $x [1]\n", codes "6: rough\nend: defines 1\n")) ∷  -- random-187
    (codes ".RECIPEPREFIX =\\\ne\n$x :  foo %.o \n\ta\\\r\n>b\nb\t$\\\n-include2: ${c} c $(a b) \t\na: \n \\\n\n\t\\\n\nX::=$(f {)\n$(s\\) ${c}:\tt foo ;\\\r\n:\t# \\", (codes "1:0: .RECIPEPREFIX = e\n13:0: X ::= $(f {)\n", codes "3:0: $x: foo %.o [0]\n8:0: a: [0]\n14:0: $(s\\) ${c}: t foo [1]\n", codes "4: opaque\n6: rough\n")) ∷  -- random-188
    ([], ([], [], [])) ∷  -- random-189
    (codes ".PHONY :::$$ \nelse ifdef Q\n\ty\r\n\\\n# \r\r\n", ([], [], codes "1: rough\n2: opaque\n3: opaque\n")) ∷  -- random-190
    (codes "foo :\\\n\t-include2 $x \r\nc&: foo ${c}\ta&b \nb ::: # \r\nA\\\n\t\\\r\n!=\t  \nb;}{$\r\nexport -x_9 :=\\\n \r\n", (codes "5:0: A !=\n9:0: export -x_9 :=\n", codes "1:0: foo: -include2 $x [0]\n3:0: c&: foo ${c} a&b [0]\n", codes "4: rough\n8: opaque\n")) ∷  -- random-191
    (codes "#\r\n\tt \\\r\n $(q:;=|) &: + ::= = \n>\\\n>\0\nundefine X\n \\\r\n : X:::= \n>q :::=\t%.o\\\n\\\n", (codes "7:0: : X :::=\n9:0: >q :::= %.o \\\n", [], codes "2: opaque\n4: opaque\n")) ∷  -- random-192
    (codes ".RECIPEPREIX = >\r\n", (codes "1:0: .RECIPEPREIX = >\n", [], [])) ∷  -- random-193
    ([], ([], [], [])) ∷  -- random-194
    (codes "\r\n \\\n\toverride override  ::=  \r\n\t\\\n$(s\\): : a | $$# \r\r\n", (codes "2:0: override override ::=\n", [], codes "4: opaque\n")) ∷  -- random-195
    (codes "$(p #)&: Y ::= \nx.o %.o: >q :::=  #\0", ([], [], codes "1: rough\n2: opaque\n")) ∷  -- random-196
    (codes "$(a b) $(s\\): $$ -include2 ${g(} # \\\n$$:\t$(a b):\\\na&b \tc \t| a %.o \t#\\\\\\\n", ([], codes "1:0: $(a b) $(s\\): $$ -include2 ${g(} [0]\n", [])) ∷  -- random-197
    (codes "endef#c\r\n \\\n\tendef ::= \\\\\t\\ \r\n\ty\r\n\t%.o: : -include2  $(s\\) a&b \nvpath %.c a\n \\\n\t$(a b): -include2: \\\n  .PHONY\\\r\n| #\n\ty\r\r\nifdef  := ${u\r\n", (codes "2:0: endef ::= \\\\\t\\ \n12:0: ifdef := ${u\n", codes "7:0: $(a b): -include2: .PHONY [1]\n", codes "1: opaque\n4: opaque\n5: opaque\n")) ∷  -- random-198
    (codes ".RECIPEPRF = >\\", (codes "1:0: .RECIPEPRF = >\\\n", [], [])) ∷  -- random-199
    (codes "$$ $(q:;=|) &:$$ :  |$(s\\)\\\n\\\n\nCC += ${g(} a&b #\r\nX\t\r{}b\\\\\n\\>}:\\\\\n\nendef x\r\n>ifeq (a,$(b\r\na:c %.o ${g(}\\\r\n|\\ \\\n%.o ", (codes "4:0: CC += ${g(} a&b\n", [], codes "1: rough\n5: opaque\n6: rough\n8: opaque\n9: opaque\n10: opaque\n")) ∷  -- random-200
    []

answers_4 : map (λ row. let lines = document_lines row.0 in (vars_text None lines, rules_text None lines, check_text lines)) rows_4 ≡ map (λ row. row.1) rows_4
unfolding digits
answers_4 = refl

abbrev rows_5 : List (List ℕ × (List ℕ × List ℕ × List ℕ))
rows_5 =
    (codes ".RECIPEPREFIX = Y\n\telse\nx.o y: \n \\\n\tX!=   \na :\\\n\t%.o\\\n%.o  $(s\\) | $(f {) \n(\na \\\nendef#b::b!\n.else\nA +=\\\n\\\n$x 1\n%.o :foo |  \n>echo a # b\n", (codes "1:0: .RECIPEPREFIX = Y\n4:0: X !=\n13:0: A += $x 1\n", codes "3:0: x.o y: [0]\n6:0: a: %.o %.o $(s\\) | $(f {) [0]\n16:0: %.o: foo [0]\n", codes "2: opaque\n9: opaque\n10: opaque\n12: opaque\n17: opaque\n")) ∷  -- random-201
    (codes "endif\n-x_9\\\n\\\n?= \nb :: c | foo b \n\tZ = 1\n", (codes "2:0: -x_9 ?=\n", codes "5:0: b:: c | foo b [1]\n", codes "1: opaque\n")) ∷  -- random-202
    ([], ([], [], [])) ∷  -- random-203
    (codes " -x_9 ::=\\\n\\\nx.o$(s\\) \\##\\\\\nifeq (a,$(b\noverride  ifdef ::=   # \\\n$(=:;=|) &: \\\n  \n>y\r\n\tifdef Z\n", (codes "1:0: -x_9 ::= x.o$(s\\) \\#\n5:1: override ifdef ::=\n", [], codes "8: opaque\n9: opaque\nend: conditionals 1\n")) ∷  -- random-204
    (codes ".RECIPEPREFIX = i{\n-x_9 = c $(q:;=|) \t#c \\\n d\r\n", (codes "1:0: .RECIPEPREFIX = i{\n2:0: -x_9 = c $(q:;=|)\n", [], [])) ∷  -- random-205
    (codes "endef\n.ifdef Z\nx.o y: .PHONY\n\t\\\nendef # c\n$(q:;=|):\t# \\\n> \nelse ifdef Q\n%.c &:: $$\tfoo \n", ([], codes "3:0: x.o y: .PHONY [1]\n6:0: $(q:;=|): [0]\n9:0: %.c&:: $$ foo [0]\n", codes "1: opaque\n2: opaque\n8: opaque\n")) ∷  -- random-206
    ([], ([], [], [])) ∷  -- random-207
    (codes "endif # c\n\tendef # c\n#c \\\n d\noverride >q\t=\0\ta&b # x ; y : z = 1\ndefine +=  \\\n \\\n \n\n.else\nexport \tY=\t", (codes "6:0: define +=\n11:0: export Y =\n", [], codes "1: opaque\n2: opaque\n5: opaque\n10: opaque\n")) ∷  -- random-208
    (codes ">X \\\r:::= \nY\\\n\t:::=  \\\n  \n", (codes "2:0: Y :::=\n", [], codes "1: opaque\n")) ∷  -- random-209
    (codes ". \nt1 :=x.o  $# \n\\\n-x_9 \\\n  :::=a\\  # \r\n\tZ = 1\nadefine Q\n\t\nfoo :$(p #) $(f {) |-include2\\\n\\\n$$ ;  \\\n \\\n \nifdef !=c\r\nA \t= $(q:;=|) \r\n", (codes "2:0: t1 := x.o  $#\n3:0: -x_9 :::= a\\ \n6:0: Z = 1\n14:0: ifdef != c\n15:0: A = $(q:;=|)\n", [], codes "1: opaque\n7: opaque\n8: opaque\n9: rough\n")) ∷  -- random-210
    (codes "foo: c\n\t \n\tendef\n\r\n>\r\noverride X::= t \\\n \\\n \n)\\\n\0a(\\\n\n$(s\\) : : ${g(}  $(a b) $x; %.c \n.RECIPEPREFIX::=:\nX+define}:{$#+\r\n;\n$$ \tfoo :: endef ?=$(a b) #\\\\\\\n", (codes "6:0: override X ::= t\n13:0: .RECIPEPREFIX ::= :\n16:0: $$ foo:: endef ?= $(a b)\n", codes "1:0: foo: c [2]\n14:0: X+define}: {$#+ [0]\n", codes "5: opaque\n9: opaque\n12: rough\n15: opaque\n")) ∷  -- random-211
    (codes "private \\\n \\\n export \tendef+=\\\n\\\n #\0\nfoo: $x\n\\\n\t\n\t#c\n", ([], codes "6:0: foo: $x [1]\n", codes "1: opaque\n")) ∷  -- random-212
    (codes " \\\n\tprivate  >q !=  \n$(f {): $$ : c  $x\\\n\t\\\r\n\n-include2 : .PHONY\\\na  $(s\\)\nfoo:x.o: \nifeq (a,$(b\nendef=\\\\\nb#:::\\\\}\\", (codes "1:0: private >q !=\n10:1: endef = \\\\\n", codes "3:0: $(f {): $$: c $x [0]\n6:0: -include2: .PHONY a $(s\\) [0]\n8:0: foo: x.o: [0]\n", codes "11: opaque\nend: conditionals 1\n")) ∷  -- random-213
    (codes "t: c c -include2\\\n\t\\\r\n\r\nifneq\r\ndefine F \\\n\n\t: \\\na.b :::= \t # c\r\n\ta\\\r\n>b\r\na.b::= \\\na&b\r\n X$: := # \r\n\tendef\r\n>a\\\\", ([], codes "1:0: t: c c -include2 [0]\n", codes "end: conditionals 1\nend: defines 1\n")) ∷  -- random-214
    (codes "CC=$\\\n  \0 \r\nt: \\\r\n a&b: ${g(} -include2 \r\n", ([], codes "3:0: t: a&b: ${g(} -include2 [0]\n", codes "1: opaque\n")) ∷  -- random-215
    (codes "a.b \\\n \\\n ?= $(  #\\\\\\\n\r\n# c\r\nelse\r\n", ([], [], codes "1: opaque\n6: opaque\n")) ∷  -- random-216
    (codes "elsifdef Q\r\n\\{}:+\r\noverride CC \\\r\n ?=%.o x  y \\\n$$\r\n%.c\t$x\\\n\t::: \ta  $$ a&b\t\r\nfoo::: >include2\t:\\\n\\\n\ta b)  %.o $(p #) |#c \\\n d\r\n.PHONY ${g(}:  \\\n\r\n", (codes "3:0: override CC ?= %.o x  y $$\n", codes "12:0: .PHONY ${g(}: [0]\n", codes "1: opaque\n2: rough\n6: rough\n8: rough\n")) ∷  -- random-217
    (codes "\ta &: |\\\n\t\\\r\nc \r\noverride override \\\n  X$:+= %.c\\\n\t\\\r\n#\\\\\r\n\t#\r\n\t\\\na&b&: \tb\\ \\\n: foo $(f {)\\\n\tx.o\\\n\\\n#\n# ", (codes "4:0: override override X$: += %.c\n", [], codes "1: opaque\n9: opaque\n")) ∷  -- random-218
    (codes "\t\\\na\t%.c :\t$(+f {) foo \\\n  # \r\n\telse\n%.c &::$(q:=|) \t$$  a&b# c\n\n\nf\\\\\noo: \n # }x ; y : z = 1\n. \n.\\\n\n\tx\n\tifdef Z\n", ([], codes "5:0: %.c&:: $(q:=|) $$ a&b [0]\n9:0: oo: [0]\n", codes "1: opaque\n4: opaque\n8: opaque\n11: opaque\n12: opaque\n14: opaque\n15: opaque\n")) ∷  -- random-219
    (codes "?\t\\\n", ([], [], codes "1: opaque\n")) ∷  -- random-220
    ([], ([], [], [])) ∷  -- random-221
    (codes " t1 ?= $(s\\)  # x ; y : z = 1\r\nc  $$: \tA +=$(m \\\n n)\\\n%.c\r\nifdef!= x  y\\\n\\\n# \\\r\n", (codes "1:0: t1 ?= $(s\\)\n2:0: c $$: A += $(m n) %.c\n5:0: ifdef != x  y\n", [], [])) ∷  -- random-222
    (codes ".RECIPEPREFIX = %\na&b \t$$:  \\\n \\\n \na.b\\\n!=\n+ != ${u 1 \\\n \\\n \ndefine F \\\n\nelse\n", (codes "1:0: .RECIPEPREFIX = %\n5:0: a.b !=\n7:0: + != ${u 1 \n", codes "2:0: a&b $$: [0]\n", codes "end: defines 1\n")) ∷  -- random-223
    (codes "vpath %.c a\n\\\n\\\n::-x_9\\\n\t\\\r\n=  ", (codes "2:0: :: -x_9 =\n", [], [])) ∷  -- random-224
    (codes "\ta\\\noverride undefine X\na: $$\t%.c\n>a\\\r\ne#c\r\n%.o ::: $(p #)\\\n\\\n${g(}\r\n", ([], codes "3:0: a: $$ %.c [0]\n", codes "1: opaque\n4: opaque\n6: rough\n")) ∷  -- random-225
    (codes "-include2:%.o :  x.o  $(f {) $(s\\)\\\n\t\\\r\n\nfoo: t a\naa \\\n\tb\nb \\\r\n : $x : ${c} %.o \tfoo\\\n; \\\n \\\n  #\\\\\n\t \n$\t\\\n\t&: -include2\\\r\na&b $x \n", ([], codes "1:0: -include2: %.o: x.o $(f {) $(s\\) [0]\n4:0: foo: t a [0]\n7:0: b: $x: ${c} %.o foo [2]\n", codes "5: opaque\n13: rough\n")) ∷  -- random-226
    (codes "\\\n# x ; y : z = 1\n\\#  $x :Y \t?= %.c\\\\ #\\\\\n\tx\n${g(} :$(q:;=|)  # c\n>y\r\ndefine ?= \\\n: \na: $(f {) t\n\t#c \\\n d\nea\\\\", (codes "3:0: \\# $x: Y ?= %.c\\\\\n7:0: define ?= :\n", codes "5:0: ${g(}: $(q:;=|) [0]\n9:0: a: $(f {) t [1]\n", codes "4: opaque\n6: opaque\n12: opaque\n")) ∷  -- random-227
    (codes "(b)+\0\r\n$(s\\): :${g(}# \r\r\n# x =; ;y : z = 1\rq != \n\t\r\n", ([], [], codes "1: opaque\n2: opaque\n4: opaque\n")) ∷  -- random-228
    (codes ">ifdef Z\n\techo a # b\n.RECIPEPREFIX=t\n\\\n)}\\\n\r\n>\\\n\n\ta \\\n\tb\n$(X)?= \n", (codes "3:0: .RECIPEPREFIX = t\n11:0: $(X) ?=\n", [], codes "1: opaque\n2: opaque\n4: opaque\n7: opaque\n9: opaque\n")) ∷  -- random-229
    (codes "endef :=1 #\0\r\n \r\n$$\n \n}:\\\n\r\\\n\\\n\0\nifdef\\\n\t?= \n", (codes "9:0: ifdef ?=\n", [], codes "1: opaque\n3: opaque\n5: opaque\n")) ∷  -- random-230
    (codes "\ty\r\r\na: $(p #\\\n \\\n x.o\n#\0\r\noverride -x_9 += ", (codes "6:0: override -x_9 +=\n", [], codes "1: opaque\n2: rough\n")) ∷  -- random-231
    (codes " :override ::= $(\\\n\\\n#\n\t\nifdef A\n\tendef\nendef\\\n\noverride private \\\nY?=\\\n\\\n\\\n\\\n\nCC::=\\\r\nc # c\ndefine ?= \\\n-include2\nendef\\\n", (codes "1:0: : override ::= $( #\n9:1: override private Y ?=\n15:1: CC ::= c\n17:1: define ?= -include2\n", [], codes "6: opaque\n7: opaque\n19: opaque\nend: conditionals 1\n")) ∷  -- random-232
    (codes "\tifdef Z\nX::=x  y ${c} #\n \n %.c: :t b \\\n \\\n \n", (codes "2:1: X ::= x  y ${c}\n", [], codes "4: rough\nend: conditionals 1\n")) ∷  -- random-233
    (codes "x.o y: $$\n>t: u\r\n-x_9 !=${c}\r\n# x ; y : z = 1\n.RECIEPREFIX = X\nfoo: $(q:;=|)\t\\\n$(p #)\n\tifdef Z\n\ty\r\nex\n-x_9 += $\\\n = \n", (codes "3:0: -x_9 != ${c}\n5:0: .RECIEPREFIX = X\n11:0: -x_9 += $ =\n", codes "1:0: x.o y: $$ [0]\n2:0: >t: u [0]\n6:0: foo: $(q:;=|) $(p #) [2]\n", codes "10: opaque\n")) ∷  -- random-234
    (codes ":feq (a,$(b", ([], [], codes "1: rough\n")) ∷  -- random-235
    (codes ">${v:: override\t+= t\n #c \\\n d\n", ([], [], codes "1: opaque\n")) ∷  -- random-236
    (codes "X!=.PHO#Y \t#\\\\\r\n$(q:;=|): \ta\t${c}\\\r\nfoo|${g(}\t$x# x ; y : z = 1\nexport  -x_9 \\\r\n =${c} \t# \r\r\nfoo: -include2 \t$$\n\ty\r\n# \r\r\n\r\nx.o y: \n.Z = 1\nifndef X # c\n", (codes "1:0: X != .PHO\n11:0: .Z = 1\n", codes "6:0: foo: -include2 $$ [1]\n10:0: x.o y: [0]\n", codes "2: rough\n4: opaque\nend: conditionals 1\n")) ∷  -- random-237
    (codes " \\\n\t$(q:;=|):|:$x \\\r\n \n\tx\n ::\\#x\\\n\\\n?=\t${g(} \\\n  $(p #) a\\:b# \r\n\telse\n>x\nifndef X # c\n \\\n\nY:::=  \n", (codes "5:0: :: \\#x ?= ${g(} $(p #) a\\:b\n14:1: Y :::=\n", [], codes "1: rough\n9: opaque\n10: opaque\nend: conditionals 1\n")) ∷  -- random-238
    (codes ".RECIPEPREFIX = %\r\n$(s\\)\t$x&: $$ \r\noverride\t>q +=  \r\n\t \r\nc :  \n\ta\\\\\r\n\toverride CC ::= | # \\\r\nx.o y: ${c}\n\t#c\n\t#\0\n\t \r\n>override != ${g(} \r\nx.o\t.PHONY \\\n \\\n : \\\r\n override\\\r\nt1 :::= a\\ \\\r\n\r\n", (codes "1:0: .RECIPEPREFIX = %\n3:0: override >q +=\n7:0: override CC ::= |\n12:0: >override != ${g(}\n", codes "2:0: $(s\\) $x&: $$ [0]\n5:0: c: [0]\n", codes "6: opaque\n13: opaque\n")) ∷  -- random-239
    (codes "endif # c\n$(q:;=|): \t$$\ta t| b \nx.o y: b \t${g(}\n#c \\\n d\n\tendef\n>$(\nifdef\\\nB\n\\\n\t\nifdef A\nendif # c\n${c} : ${g(#} :  \n\ta \\\n\tb", ([], codes "3:0: x.o y: b ${g(} [1]\n14:1: ${c}: ${g(#}: [1]\n", codes "1: opaque\n2: rough\n7: opaque\nend: conditionals 1\n")) ∷  -- random-240
    (codes ".PHONY &:\\\n\t.PHONY | $(p #) b; \t \r\nfoo: ${c}  %.c\n\ta\\\r\n>b\r\nA+= %.c a\\:b #\r\nifdef \\\r\n ::=  \r\noverride X  != $$ #\\\\\\\n\r\n", (codes "6:0: A += %.c a\\:b\n7:0: ifdef ::=\n", codes "1:0: .PHONY&: .PHONY | $(p #) b [1]\n3:0: foo: ${c} %.c [1]\n", codes "9: opaque\n")) ∷  -- random-241
    (codes " \n .PHONY:.PHONY \\\n-include2 a&b", ([], codes "2:0: .PHONY: .PHONY -include2 a&b [0]\n", [])) ∷  -- random-242
    (codes ".RECIPEPREFIX = %\n-x_9!= \\$x $(a b)\\# \n", (codes "1:0: .RECIPEPREFIX = %\n2:0: -x_9 != \\$x $(a b)\\#\n", [], [])) ∷  -- random-243
    (codes " A ::=   \nx.o y: .PHONY\n\t\n\tx\n\ta \\\n\tb\nendef#c", (codes "1:0: A ::=\n", codes "2:0: x.o y: .PHONY [3]\n", codes "7: opaque\n")) ∷  -- random-244
    (codes "\t$(f {) &: $x %.o ; c \\\n \\\n #c \\\n d\ndefine = \r \n Y:=${c} \0 \n\t\\\nc:t:\tt#\0\n", ([], [], codes "1: opaque\n5: opaque\n6: opaque\n7: opaque\n")) ∷  -- random-245
    (codes ".RECIPEPREFIX = t#\\", (codes "1:0: .RECIPEPREFIX = t\n", [], [])) ∷  -- random-246
    (codes ".PHONY :  \nendef:::= \r \n$(p #)  b:$(q:;=|) \\\r\n \nendif # c\nc: $(q:;=|) foo\t-include2 #\0\nt1 \t:= %.o\t# \\\nendef # c\n%.o &: t", (codes "7:0: t1 := %.o\n", codes "1:0: .PHONY: [0]\n3:0: $(p #) b: $(q:;=|) [0]\n9:0: %.o&: t [0]\n", codes "2: opaque\n5: opaque\n6: opaque\n")) ∷  -- random-247
    (codes ".RECIPEPREFIX = \\\\\ni\n$x: c :  #\0\\", (codes "1:0: .RECIPEPREFIX = \\\\\n", [], codes "2: opaque\n3: opaque\n")) ∷  -- random-248
    (codes "\n&!\\\\\n\\\n\\\n", ([], [], codes "2: opaque\n3: opaque\n")) ∷  -- random-249
    (codes " \n>q\t:= x.o# c\nexport >q=  $x\tc1 \n\t\\\n-include2 \\\n \\\n :: endef+= = ${g(} \n${c} ::: \t$(a b) \n ifdef := $(p #)\\\r\n# ", (codes "2:0: >q := x.o\n3:0: export >q = $x\tc1\n9:0: ifdef := $(p #)\n", [], codes "4: opaque\n8: rough\n")) ∷  -- random-250
    []

answers_5 : map (λ row. let lines = document_lines row.0 in (vars_text None lines, rules_text None lines, check_text lines)) rows_5 ≡ map (λ row. row.1) rows_5
unfolding digits
answers_5 = refl

abbrev rows_6 : List (List ℕ × (List ℕ × List ℕ × List ℕ))
rows_6 =
    ([], ([], [], [])) ∷  -- random-251
    (codes "\ta\\\\\n\t# \\\n\tt: u\n\t: o-$(a b):=  #\\\\\\\n\n.RECIPEPREFIX =\\\n\\x\n\t\\\rverride  private  >q := \\\n\\\n\noverride ?=  \\\n \\\n \n", (codes "6:0: .RECIPEPREFIX = \\x\n11:0: override ?=\n", [], codes "1: opaque\n2: opaque\n4: opaque\n8: opaque\n")) ∷  -- random-252
    (codes "x.o y: \n\t\nfoo $; :\\\n\toverride  X :::=1$# $(f {)#\\\\\\\n\nX$  := \nY\t?= \\# \t\nfoo: c\n>q != \n\n.RECIPEPREFIX?=Ã\nX$:\t?= \t1 \n", (codes "6:0: X$  :=\n7:0: Y ?= \\#\n9:0: >q !=\n11:0: .RECIPEPREFIX ?= Ã\n12:0: X$: ?= 1\n", codes "1:0: x.o y: [1]\n8:0: foo: c [0]\n", codes "3: opaque\n")) ∷  -- random-253
    (codes "+ \\\n))endef>\\\n)\n:\r\ndefine D\nifdef A\nt :foo \r\n\\\n#\0\n", ([], codes "4:0: : [0]\n", codes "1: opaque\nend: defines 1\n")) ∷  -- random-254
    (codes ".RECIPEPREFIX = -\n\\\n# x ; y : z = 1\nvpath %.c a\nexport private define E # c\n", (codes "1:0: .RECIPEPREFIX = -\n", [], codes "end: defines 1\n")) ∷  -- random-255
    (codes "A:= x  y \nCC !=\\\\|\n-x_9\\\n:::= -include2\\\n\t\\\r\n\n: b$==\\\n\n", (codes "1:0: A := x  y\n2:0: CC != \\\\|\n3:0: -x_9 :::= -include2\n7:0: : b$= =\n", [], [])) ∷  -- random-256
    (codes ".RECIPEPREFIX = >\r\n$(p #):${c} c %.o|\\\r\n # \\\r\n # c\r\no-$(a b) := $\\\n  t ${c} \\\r\n \r\n>}endef\\$\r\n)\n\r\n%.c :\\\r\n$(q:;=|) ;x  y # x ; y : z = 1\r\n", (codes "1:0: .RECIPEPREFIX = >\n5:0: o-$(a b) := $ t ${c}\n", codes "11:0: %.c: $(q:;=|) [1]\n", codes "2: rough\n8: opaque\n9: opaque\n")) ∷  -- random-257
    (codes "\r\nc:: \\\n\t;x.o \\\n%.o\\\n\t$(p #)\r\n:$$: \r\noverride  \\#x ::= $(p #) # c\r\nx.o y: \nea\\\ntifdef Z\n\tx\r\n", (codes "7:0: override \\#x ::= $(p #)\n", codes "2:0: c:: [1]\n6:0: : $$: [0]\n8:0: x.o y: [0]\n", codes "9: opaque\n11: opaque\n")) ∷  -- random-258
    (codes ".PHONY&:: $(p #) b x.o |$$\\\r\n$(q:;=|)  #c \\\n d\n", ([], [], codes "1: rough\n")) ∷  -- random-259
    (codes ">X$ != -include2 #\0\r\nelse ifdef Q\r\n:X}$\n{+\r\nY\\\r\n:=$(q:;=|) # c\r\n :>q\t::=  \r\n$(q:;=|)\t.PHONY :a.b:::=%.c\\\r\n# \\\r\n", (codes "5:0: Y := $(q:;=|)\n7:0: : >q ::=\n8:0: $(q:;=|) .PHONY: a.b :::= %.c\n", [], codes "1: opaque\n2: opaque\n3: rough\n4: opaque\n")) ∷  -- random-260
    (codes "$(f {) : $\\:|$(q:;=|) foo \\\n  #\\\\\r\n", ([], [], codes "1: rough\n")) ∷  -- random-261
    (codes ".RECIPEPREFIX = $$\nt1:= \\\n  \\\\ \nx.o y: ${g(}\nexport  A ::= $  $(f {) \n\\\n\t\n${c} ${g(} : $& :  \\\n \\\n \nifdef A\n", (codes "1:0: .RECIPEPREFIX = $$\n2:0: t1 := \\\\\n5:0: export A ::= $  $(f {)\n", codes "4:0: x.o y: ${g(} [0]\n8:0: ${c} ${g(}: $&: [0]\n", codes "end: conditionals 1\n")) ∷  -- random-262
    (codes "private a.b != \\\n  \\\\\\ \\\n$(a b) \n#\nd|&::c\\\n$(f {) ${g(}\t\r\nx.o:%.c :a&b t\ta&b \r\n\ta\\", ([], codes "7:0: x.o: %.c: a&b t a&b [1]\n", codes "1: opaque\n5: rough\n")) ∷  -- random-263
    ([], ([], [], [])) ∷  -- random-264
    (codes "(:b)$\\\r\n$$ &: $(a b) $(s\\) .PHONY \r\n# \r\r\nfoo  :\\\n\t\\\r\n%.c t # x ; y : z = 1\n\ta\\\r\n>b\ndefine D", ([], codes "4:0: foo: %.c t [1]\n", codes "1: rough\nend: defines 1\n")) ∷  -- random-265
    (codes "override ?= = = 2 3 \nCC:::=\\\n$$\\\r\n\nifdef +=$(s\\)>", (codes "1:0: override ?= = = 2 3\n2:0: CC :::= $$\n5:0: ifdef += $(s\\)>\n", [], [])) ∷  -- random-266
    (codes "override \\\n+=$( \r\nifdef A\r\nifdef +=\t# c\r\nb &: $(s\\) \r\nload x\r\n\t-include b c\r\ndefine X =\r\n$(q:;=|) : : a&b ${c} $(a b) \\\r\n #\n#\0\r\n", (codes "1:0: override += $( \n4:1: ifdef +=\n", codes "5:1: b&: $(s\\) [0]\n", codes "end: conditionals 1\nend: defines 1\n")) ∷  -- random-267
    (codes "tx\noverride ::=\\\n\\\n\n$(f {)  $$: :  ;\t$(q:;=|)$(p #)| \nexport\\\nX :::= \\\n  # c\n.RECIPEPREFIX ::=  \n", (codes "2:0: override ::=\n6:0: export X :::=\n9:0: .RECIPEPREFIX ::=\n", [], codes "1: opaque\n5: rough\n")) ∷  -- random-268
    (codes ".RECIPEPREFIX = f\r\n\\\n\t\r\nendef#c\r\nY\\\n\\\n:::= #\r\n.RECIPEPREFIX ?=\\\n>\r\n\telse\r\n\r\n-include b c", (codes "1:0: .RECIPEPREFIX = f\n5:0: Y :::=\n8:0: .RECIPEPREFIX ?= >\n", [], codes "4: opaque\n10: opaque\n")) ∷  -- random-269
    (codes "-inc>ude2\\\n%.o \\\n  &: \tdefine !=\\\n.PHY \t\n", ([], [], codes "1: rough\n")) ∷  -- random-270
    (codes "private  X \\\n::= \\\n  $(q:;=|)#\\\\\\\n\nendef:}\nX \\\n  ::= \t.PHONY \n\tendef # c\r\noverride define F \\\n\r\nfoo: \nifdef\\\nB\r\n", (codes "6:0: X ::= .PHONY\n", codes "5:0: endef: } [0]\n", codes "1: opaque\n8: opaque\nend: defines 1\n")) ∷  -- random-271
    (codes ".$(\nt \\\n$(q:;=|)::${g(}  : \\\n \\\n a  a \t#\0\r\nprivate >q?=  \n\t\\\n-x_9\t:=\\\r\n$(w \\\n\r $\\\n  \r\n", (codes "6:0: private >q ?=\n", [], codes "1: opaque\n2: opaque\n7: opaque\n")) ∷  -- random-272
    (codes "{&\r}\t\n \\\n}bendef\r\n\\\n$(f {) &:$x#c \\\n d\nendif\r\n", ([], codes "4:0: $(f {)&: $x [0]\n", codes "1: opaque\n2: opaque\n7: opaque\n")) ∷  -- random-273
    (codes " \\\n\n", ([], [], [])) ∷  -- random-274
    (codes ".RECIPEPREFIX = e\r\n\\\n#\0\r\n>t: u\r\na: \n\tx\n\\\n\t\nifeq (a,$(b\r\n\ta \\\n\tb\r\n\tx.o &:: $(p #)\r\n$(p #)\tfoo &: \tifd\rf\\\n\t?= x.o $(a b) foo \r\nx.o y: \nifeq (a,$(b\r\n", (codes "1:0: .RECIPEPREFIX = e\n", codes "4:0: >t: u [0]\n5:0: a: [0]\n12:1: x.o&:: $(p #) [0]\n15:1: x.o y: [0]\n", codes "6: opaque\n10: opaque\n13: opaque\nend: conditionals 2\n")) ∷  -- random-275
    (codes "eifdef Z\na: $x\n\tt: u\na: $x\\\n\t$(p #)\naifdef Z\n\t\n\\\n$(s\\) &:\t${c} | $$\t$(p #) \r\n", ([], codes "2:0: a: $x [1]\n4:0: a: $x $(p #) [0]\n8:0: $(s\\)&: ${c} | $$ $(p #) [0]\n", codes "1: opaque\n6: opaque\n7: opaque\n")) ∷  -- random-276
    (codes "foo\t${c}:: \\\r\n $(s\\): $(a b) \tb $(p #) \\\n \\\n |$$\\\n\t\na&b: \\\n  -include2\\\nb \nx.o y: \n\\\n# \\\n\n\\\n\nX$\\$?\nfoo: :  \n", ([], codes "6:0: a&b: -include2 b [0]\n9:0: x.o y: [0]\n", codes "1: rough\n15: opaque\n16: rough\n")) ∷  -- random-277
    ([], ([], [], [])) ∷  -- random-278
    (codes "X!=\t #\\\\\nY ?= -include2 $(a&b \n\\\ndefine != \r $(a b) $(p #) # c\n \\\n\toverride define .RECIPEPREFIX\n", (codes "1:0: X !=\n2:0: Y ?= -include2 $(a&b \n", [], codes "3: opaque\nend: defines 1\n")) ∷  -- random-279
    (codes "\telse\r\n\tendef\r\nx.o y: ${g(} a\n>define Q\n\t \n>\r\n${g(} : b\\\n${c} $x |  \r\n\ta\\\r\n #\\\\\\\n\r\noverride CC := x.o\r\nx.o y: a\nifdef =; ", (codes "12:0: override CC := x.o\n14:0: ifdef = ;\n", codes "3:0: x.o y: ${g(} a [0]\n7:0: ${g(}: b ${c} $x [1]\n13:0: x.o y: a [0]\n", codes "1: opaque\n2: opaque\n4: opaque\n5: opaque\n6: opaque\n")) ∷  -- random-280
    (codes "override undefine X\n>$(\n>q\\\n=  \n\nx.o\\\n\t$|: define ::=${g(}\n\n$(q:;=|)  &: $(q:;=|)  %.c ;; \\\n-include2 #\0\n\tx\r\n\\\n\t\\\r\n&: override >q  =  \n", (codes "3:0: >q =\n6:0: x.o $|: define ::= ${g(}\n", [], codes "2: opaque\n9: opaque\n11: opaque\n12: rough\n")) ∷  -- random-281
    (codes "!>)\\$X\0\t\\\n$\t\\\n\n", ([], [], codes "1: opaque\n")) ∷  -- random-282
    (codes "a: \ntelse\nta\\\\\n# x ; y : z = 1\n$(f {) \t$(s\\): a \t# x ; y : z = 1\nifeq (\r,$(b\nx.o y: a&b\n\t$(\n>t: u\n\\\n>\t\nY\\\n\\\n=$(p #) : \n >q\n=\\\n\t& ", (codes "12:0: Y = $(p #) :\n", codes "1:0: a: [0]\n5:0: $(f {) $(s\\): a [0]\n7:0: x.o y: a&b [1]\n9:0: >t: u [0]\n", codes "2: opaque\n3: opaque\n6: opaque\n10: opaque\n15: opaque\n16: opaque\n")) ∷  -- random-283
    (codes "\tdefine Q\r\n\tprivate  override += \\\r\n  ", ([], [], codes "end: defines 1\n")) ∷  -- random-284
    (codes "$;: \\\n \\\n |a\\ b# \\\r\n\tx\r\nx.o y: t\n\telse\n\telse\noverride :::= \\\n \\\n  \n%.o:$(s\\) \n\telse\n$(f {)&:: \\\r\n $$ :$(s\\) $\t|  \t#\nx.o y: $(a b)  $(s\\)\n\techo a # b\n\t\n\t$(\n\\\nifneq\n", (codes "8:0: override :::=\n", codes "5:0: x.o y: t [2]\n11:0: %.o: $(s\\) [1]\n15:0: x.o y: $(a b) $(s\\) [3]\n", codes "1: rough\n13: rough\nend: conditionals 1\n")) ∷  -- random-285
    (codes ":\\\n", ([], [], codes "1: rough\n")) ∷  -- random-286
    (codes "$(a b) :$&\t$(q:;=|) \\\n  !$ \n\t \n>y\r\n\t\\\n$|define=:\n\r\n\\\n", ([], [], codes "1: rough\n4: opaque\n5: opaque\n8: opaque\n")) ∷  -- random-287
    (codes "}{#=}#&\\\r\n\nt$(", ([], [], codes "1: opaque\n3: opaque\n")) ∷  -- random-288
    ([], ([], [], [])) ∷  -- random-289
    (codes ".RECIPEPREFIX = d\n${g(}\\ \\\na  &: ; b\\\r\n\naa\\\nta \\\n\tb\na\\= :=\n", (codes "1:0: .RECIPEPREFIX = d\n8:0: a\\= :=\n", [], codes "2: opaque\n5: opaque\n")) ∷  -- random-290
    (codes ".RECIPEPREFIX=>\r\n\t# c\r{\nX$: ::= : \\\\", (codes "1:0: .RECIPEPREFIX = >\n3:0: X$: ::= : \\\\\n", [], [])) ∷  -- random-291
    (codes ".a \\\n\tb\na: a \\\r\n %.o\n\tifdef Z\nifdef\\\nB\n\t\n$(f {) &: \nendef +=$(a b) $#", (codes "10:1: endef += $(a b) $#\n", codes "3:0: a: a %.o [2]\n9:1: $(f {)&: [0]\n", codes "1: opaque\nend: conditionals 1\n")) ∷  -- random-292
    (codes ">q +=\tx.o\\\n# \\\nendef ::=\t\\# \r\ne \n>a\\\neecho a # b\r\n$(s\\) : $x b\r\n\ta\\\r\n>b\r\nfoo: a&b\n\t\nendif # c\n\t$(\r\n", (codes "1:0: >q += x.o\n", codes "7:0: $(s\\): $x b [1]\n10:0: foo: a&b [1]\n", codes "4: opaque\n5: opaque\n12: opaque\n13: opaque\n")) ∷  -- random-293
    (codes ".RECIPEPREFIX =  \r\n>Z = 1\r\n${g(}\\\n\t${c} :: export endef :=$\\\n${c}#\\\\\r\n>$(a b): a %.c \r\n.RECIPEPREFIX ?=\\\n>\r\nx.o ::: ${c} \\\r\n -include2 || c \r\n\\\n\t\r\noverride private \\\r\n CC += \r\n\t\r\n", (codes "1:0: .RECIPEPREFIX =\n2:0: >Z = 1\n3:0: ${g(} ${c}:: export endef := $ ${c}\n7:0: .RECIPEPREFIX ?= >\n13:0: override private CC +=\n", codes "6:0: >$(a b): a %.c [0]\n", codes "9: rough\n")) ∷  -- random-294
    (codes "ifdef\\\nB\n.PHONY :::.PHONY %.o .PHONY \nb : foo \n \\\n\nb: a\t.PHONY ${c} # x ; y : z = 1\n-x_9\t?= \ta\\:b \n", (codes "8:1: -x_9 ?= a\\:b\n", codes "4:1: b: foo [0]\n7:1: b: a .PHONY ${c} [0]\n", codes "3: rough\nend: conditionals 1\n")) ∷  -- random-295
    (codes ">endif\r|\naifdef Z\r\ndefine D\r\nc:%.o :  | %.o\t\r\nendif\r\n", ([], [], codes "1: opaque\n2: opaque\nend: defines 1\n")) ∷  -- random-296
    (codes "else\r\n-include2&:: $(f {)\\\n\t\\\r\n$(q:;=|) ${g(} \r\n\tendif\r\n%.c &: %.c \r\na:::  \\\n \\\n \r\na.b?= $(m \\\n n) \\\n\r\nendef # c\r\n>\\\n\r\n", (codes "10:0: a.b ?= $(m n)\n", codes "2:0: -include2&:: $(f {) $(q:;=|) ${g(} [1]\n6:0: %.c&: %.c [0]\n", codes "1: opaque\n7: rough\n13: opaque\n14: opaque\n")) ∷  -- random-297
    (codes ".RECIPEPREFIX = .\n\\\n#\\\\\nexport private define \n$(s\\):: \na $x  $(p #) |  $x  $(a b) \\\n  \n\n&a\\\n)\\\n\nb\0&a\nx.o :: a.b= $$ \nb :x.o\\\n\t\\\r\n${c} $$ | $(p #) c # x ; y : z = 1\n$$ : : \t\\#: \\ a&b\t$(s\\)#\\\\\\\n", (codes "1:0: .RECIPEPREFIX = .\n", [], codes "end: defines 1\n")) ∷  -- random-298
    (codes "x.o y: b\t${c}\n\tendif\n$(a b):$\\{c} $(f {) \n>y\r\n>a \\\n\tb\n\\\nifndef X # c\n>q:= \\\\$#\t#\n.RECIPEPREFIX\\\n\t:::=\\\n\na: a&b", (codes "9:1: >q := \\\\$#\n10:1: .RECIPEPREFIX :::=\n", codes "1:0: x.o y: b ${c} [1]\n13:1: a: a&b [0]\n", codes "3: rough\n4: opaque\n5: opaque\nend: conditionals 1\n")) ∷  -- random-299
    (codes "\tdefine Q\r\nelse ifdef Q\n>echo a # b\n.RECIPEPREFIX =\\\n>\r\n$x :\\\n\\\n \n.PHONY :::\0c \\\n: a(e$(\nendif # c\r\n", ([], [], codes "end: defines 1\n")) ∷  -- random-300
    []

answers_6 : map (λ row. let lines = document_lines row.0 in (vars_text None lines, rules_text None lines, check_text lines)) rows_6 ≡ map (λ row. row.1) rows_6
unfolding digits
answers_6 = refl

abbrev rows_7 : List (List ℕ × (List ℕ × List ℕ × List ℕ))
rows_7 =
    (codes "t1:=#c \\\n d\noverride\tifdef  ?= \0$(q:;=|)\t$(p #) \nx.o y: x.o $(a b)\n\ty\r\na: \n>define Q\n>Z = 1\n", (codes "1:0: t1 :=\n8:0: >Z = 1\n", codes "4:0: x.o y: x.o $(a b) [1]\n6:0: a: [0]\n", codes "3: opaque\n7: opaque\n")) ∷  -- random-301
    (codes "$(s\\): a \t-include2 \t.PHONY \r\n$$::: \\\na&b \\\n \\\n ${c} $(p #) # \\\n${v: foo; :  1#\nendef ?= \r\na: \n.endif\n>a \\\n\tb\r\n${g(} : \t\r\nCC := \r\n>t: u\r\n>q += \\# $(f {) \\\n \\\n t ", (codes "7:0: endef ?=\n13:0: CC :=\n15:0: >q += \\# $(f {) t\n", codes "1:0: $(s\\): a -include2 .PHONY [0]\n8:0: a: [0]\n12:0: ${g(}: [0]\n14:0: >t: u [0]\n", codes "2: rough\n9: opaque\n10: opaque\n")) ∷  -- random-302
    (codes "$$ $$:\\\n\t\\\r\nvrride \\\n \\\n != \\\n\r\nt1 +=$\\\n  #\\\\\\\n\r\noverride::= a \\\n \\\n $x \\\r\n $(s\\) \t# \\\r\n\tx\r\n$(p #): $(s\\) # \r\n\t \r\nprivate  override \\\n  ifdef += # \r\r\n", (codes "1:0: $$ $$: vrride !=\n10:0: override ::= a $x $(s\\)\n", codes "15:0: $(p #): $(s\\) [1]\n", codes "7: opaque\n17: opaque\n")) ∷  -- random-303
    (codes "b: : a&b \\\n \\\n -include2 #\0\n>endef\n", ([], [], codes "1: opaque\n4: opaque\n")) ∷  -- random-304
    (codes "-x_9 \\\n  = \r\nx.o y: t $(p #)\nifdef\\\nB\n\tifdef Z\n\tdefine Q\r\nendif # c\r\nifdef:::= $x \r\n>a:%.c :\r\ndefine X =\r\n", (codes "1:0: -x_9 =\n9:0: ifdef :::= $x\n", codes "3:0: x.o y: t $(p #) [2]\n10:0: >a: %.c: [0]\n", codes "end: defines 1\n")) ∷  -- random-305
    (codes ".RECIPEPREFIX = d\n$(a b):  \n$(s\\): %.o| x.o \n\t\n$(a b)  $(s\\) ::${c} ;\nelse\n>else", (codes "1:0: .RECIPEPREFIX = d\n", codes "2:0: $(a b): [0]\n5:0: $(a b) $(s\\):: ${c} [1]\n", codes "3: rough\n6: opaque\n7: opaque\n")) ∷  -- random-306
    (codes ".RECIPEPREFIX = X\nendef = \\\n \\\n x.o $(m \\\n n)\n\\\n|=\\\n\na: .PHONY $(s\\)\n#\0\nifdef :::= ${c} \noverride  override\\\n\toverride!= a$( \\\r\n %.o\\\n\\\n#c \\\n d\n\0\0\r\n+>define\n\r\n!!a|\\\n=\\\n?\ndefine D\n\t$(", (codes "1:0: .RECIPEPREFIX = X\n2:0: endef = x.o $(m n)\n6:0: | =\n11:0: ifdef :::= ${c}\n12:0: override override override != a$( %.o #c d\n21:0: !!a| = ?\n", codes "9:0: a: .PHONY $(s\\) [0]\n", codes "18: opaque\n19: opaque\nend: defines 1\n")) ∷  -- random-307
    (codes "#\\\na\0;b\\\n\\\nX\n", ([], [], [])) ∷  -- random-308
    (codes "\r\na&b \t:: $x\t$(a b) |\\\na&b\\\r\n\ntecho a # b\r\n", ([], codes "2:0: a&b:: $x $(a b) | a&b [0]\n", codes "5: opaque\n")) ∷  -- random-309
    (codes "\\\\\n\\>\n", ([], [], codes "1: opaque\n2: opaque\n")) ∷  -- random-310
    (codes "\tifdef\\\nB\n>$(p #): : ${c}\\\n\\\n# c\n\\\n\t\n\ta\\\nfo: \n\tt: u\nelendefse ifdef Q\n\\\n\t-x_9:+= \\\n \\\n  \\\n\n${c}\\\n\\\n: | ${g(} $$; \\\r\n \0 # c\n", ([], [], codes "3: rough\n11: opaque\n12: rough\n17: opaque\nend: conditionals 1\n")) ∷  -- random-311
    (codes "ifdef A\r\n private endef\t:= x.o $#\n\\\ndefine{define++)$$\r\n t:::a&b| \r\nendef = %.o # \r\r\n>$(a b) :::c : -include2 | a:b \t$x#\0\r\n\\\n$(f {): :  \ndefine X =\n\tendif", (codes "2:1: private endef := x.o $#\n", [], codes "3: opaque\n5: rough\n6: opaque\n7: opaque\n8: rough\nend: conditionals 1\nend: defines 1\n")) ∷  -- random-312
    (codes "\\", ([], [], codes "1: opaque\n")) ∷  -- random-313
    (codes "a $(q:;=|) &:$(p #): %.o \t${c}\t$(a b) # c\n\nX +=:\\\n\\\n-include2 b \n>echo a # b\nc: :  | foo $$ #\naa\\\r\n>b\n", (codes "3:0: X += : -include2 b\n", [], codes "1: rough\n6: opaque\n7: rough\n8: opaque\n")) ∷  -- random-314
    ([], ([], [], [])) ∷  -- random-315
    (codes "endef \t?=\\\n  \\\\\t\n", (codes "1:0: endef ?= \\\\\n", [], [])) ∷  -- random-316
    (codes "end\\\nef\na.b \\\n  !=\\\n\t%.o ${g(}#\0\n\\\n# c\na.b ::= x.o\\\\ \n.RIPEPREFIX=\\\n:\nX= $x \\\n  #\\\\\n>define Q\n\t\n", (codes "8:0: a.b ::= x.o\\\\\n9:0: .RIPEPREFIX = :\n11:0: X = $x\n", [], codes "1: opaque\n3: opaque\n13: opaque\n14: opaque\n")) ∷  -- random-317
    (codes "\tendef\nY =  \nCC :::= !x  y \nX \t+=   #\n \\\n\nifneq\n\\\nexport define\n", (codes "2:0: Y =\n3:0: CC :::= !x  y\n4:0: X +=\n", [], codes "1: opaque\nend: conditionals 1\nend: defines 1\n")) ∷  -- random-318
    (codes ".RECIPEPREFIX+=\\\n>\nt1  := \nfoo: \n\tx\n\\\n%.o&:$(q:;=|)  $x $(q:;=|) # x ; y : z = 1\n endef # c\n$(s\\): : $x:  $(q:;=|)  $$ $(f {) \n-x_9::= $(q:;=|)\n", (codes "1:0: .RECIPEPREFIX += >\n3:0: t1 :=\n10:0: -x_9 ::= $(q:;=|)\n", codes "4:0: foo: [1]\n6:0: %.o&: $(q:;=|) $x $(q:;=|) [0]\n", codes "8: opaque\n9: rough\n")) ∷  -- random-319
    (codes ".RECIPEPREFIX = $$\n-x_9:=$$ %.c\\\n\\\n$(s\\)\nifeq (a,$(b\\\n", (codes "1:0: .RECIPEPREFIX = $$\n2:0: -x_9 := $$ %.c $(s\\)\n", [], codes "end: conditionals 1\n")) ∷  -- random-320
    (codes ".RECIPEPREFIX =\t \n:={\\define\\\\\n\0=(:X\n\t\\\no-$(a b) =  \n \\\n\n", (codes "1:0: .RECIPEPREFIX =\n", [], codes "2: rough\n3: opaque\n4: opaque\n")) ∷  -- random-321
    (codes "a\t\\\n \n# x ; y : z = 1\n \n", ([], [], codes "1: opaque\n")) ∷  -- random-322
    (codes "a.b ?= \t# c\r\n", (codes "1:0: a.b ?=\n", [], [])) ∷  -- random-323
    (codes "-x_9 :::= $(m \\\n n) $\\\r\n \r\noverride X\t::=-include+2 a&b c \\\n  # x ; y : z = 1\r\n$(f {):\\\n| #\\\\\\\n\n\r\n #\r\n.Z = 1\r\n\0?\\\\\n;endef\t\\::\r\n$(s\\) \tt \t::   | ${c} ;  \r\n\ta \\\n\tb\r\n%.o:${c}: $(f {) #c \\\n d", (codes "1:0: -x_9 :::= $(m n) $ \n4:0: override X ::= -include+2 a&b c\n11:0: .Z = 1\n", codes "14:0: $(s\\) t:: | ${c} [2]\n17:0: %.o: ${c}: $(f {) [0]\n", codes "6: opaque\n12: opaque\n13: opaque\n")) ∷  -- random-324
    (codes "export .RECIPEPREFIX:::=\\\n\r\n", (codes "1:0: export .RECIPEPREFIX :::=\n", [], [])) ∷  -- random-325
    ([], ([], [], [])) ∷  -- random-326
    (codes "x.o y: $(f {)\n\t$(\n$(s\\) b : >q::=$(s\\) \\\r\n #c \\\n d\nendef \\\n \\\n := 2 3 \nprivate \\\nCC\t:::= : # \r\nifneq\na &: foo\\\n\\\n$x \\\n  \n%.o &:\\\n\t\\\r\n$(f {) $(s\\) a \\\n  | -include2; $# \t#\0\n%.o::\\\n$(q:;=|) \t\n\ta\\\r\n>b\n", (codes "3:0: $(s\\) b: >q ::= $(s\\)\n6:0: endef := 2 3\n9:0: private CC :::= :\n", codes "1:0: x.o y: $(f {) [1]\n12:1: a&: foo $x [0]\n20:1: %.o:: $(q:;=|) [1]\n", codes "16: opaque\nend: conditionals 1\n")) ∷  -- random-327
    (codes "else ifdef Q\r\n", ([], [], codes "1: opaque\n")) ∷  -- random-328
    (codes ".RECIPEPREFIX = X\n\ta\\\\\n%.o\tfoo  &:\\\n\t\\\r\n%.c \\\r\n ;$x\\\n\t\\\r\n%.c \n\tifdef Z\n\t \n\ta\\\\\nexport\n$(f {) ::: c\t-include2\\\n\ta&b \nY! := \\\r\n foo#c \\\n d\nA ?= $(p #) \\\n$(  \ndefine X =\n>a&b \\\r\n : %.o# \r\n", (codes "1:0: .RECIPEPREFIX = X\n15:1: Y! := foo\n18:1: A ?= $(p #) $(  \n", codes "3:0: %.o foo&: %.c [1]\n", codes "2: opaque\n11: opaque\n13: rough\nend: conditionals 1\nend: defines 1\n")) ∷  -- random-329
    (codes "\tdefine Q\r\n${g(}: .PHONY $(p #)\r\nendef # c\r\n\t$x&: a.b :::=  \\ \r\n>endef\r\nY::= $(q?;=|)\\ c\\\n\t\r\n.PHONY&:: %.o \tfoo \\\n  ;$  t\\\r\n#endef \r\r\n", (codes "6:0: Y ::= $(q?;=|)\\ c\n", [], codes "4: opaque\n5: opaque\n8: opaque\n")) ∷  -- random-330
    (codes "\tZ = 1\n>a\\\r\n>b\nx.o : foo \t;   \no-$(a b) :=   \n+ \t!= c:\n", (codes "1:0: Z = 1\n5:0: o-$(a b) :=\n6:0: + != c:\n", codes "4:0: x.o: foo [1]\n", codes "2: opaque\n")) ∷  -- random-331
    (codes "-include2 : # c\r\noverride define E # c\r\n\ty\r\r\nendif # c\r\n", ([], codes "1:0: -include2: [0]\n", codes "end: defines 1\n")) ∷  -- random-332
    (codes ".RECIPEPREFIX = %\nfoo: %.c\t$x\n\t \n", (codes "1:0: .RECIPEPREFIX = %\n", codes "2:0: foo: %.c $x [0]\n", [])) ∷  -- random-333
    (codes "a : \\\n  a c \n$(f {):: t \\\n$(s\\) \\\n  | a&b\\\n$x \\\r\n \n\t$(\n", ([], codes "1:0: a: a c [0]\n3:0: $(f {):: t $(s\\) | a&b $x [1]\n", [])) ∷  -- random-334
    (codes ".RECIPEPREFIX = :\nexport private define \n${g(}:: $(a b) a \tc\\$\n.PHONY: | $x\ta&b \r\nt1 \t=\\\n\t\\\r\n \\\n \\\n \n\n%.c:: \\\n \\\n a \r\n.RECIPEPREFIX+=>>\r\n", (codes "1:0: .RECIPEPREFIX = :\n", [], codes "end: defines 1\n")) ∷  -- random-335
    (codes "ifdef::=$(f {)t \\\n# x ; y : z = 1", (codes "1:0: ifdef ::= $(f {)t\n", [], [])) ∷  -- random-336
    (codes "\ta\\\r\n>b\n.PHONY $x \\\r\n &:  ; $  # \r\n$x :\tt \t-include2 \nfoo\\\r\n: \\\n \n", ([], codes "3:0: .PHONY $x&: [1]\n5:0: $x: t -include2 [0]\n6:0: foo: [0]\n", codes "1: opaque\n")) ∷  -- random-337
    (codes "x.o :$$ $x\tt \n\ta \\\n\tb\nb  &: | \n\t>q= $(m \\\n n)x  y $$\n\\#:::t b \t$(q:;=|) #\\\\\\\n\n", ([], codes "1:0: x.o: $$ $x t [1]\n4:0: b&: [1]\n", codes "7: opaque\n")) ∷  -- random-338
    (codes "foo: .PHONY\n\r\tZ = 1\n>y\r\n\\\n\t", ([], codes "1:0: foo: .PHONY [0]\n", codes "2: opaque\n3: opaque\n")) ∷  -- random-339
    ([], ([], [], [])) ∷  -- random-340
    (codes "override define .RECIPEPREFIX\n: override  X$ \\\n::= |\\\n\\\n%.o \nifdef:::=a$(s\\) foo# \r\n>q \\\n:=\\\n\na\\ b x.o&:: %.o $(p #) ; \\\na&b $\\\n \\$x \\\n \\\n #\\\\\\\n\n", ([], [], codes "end: defines 1\n")) ∷  -- random-341
    (codes "${c}  ::X!= %.c\t#\\\\\\\n\r\n-x_9\\\n\t\\\r\n!=\\$x \r \r\naZ = 1\r\nex\r\n\r\n\t\\\n>q\\\n:::= $# a&b #\\\\\\\n\r\n \r\nvpath %.c a\r\n", (codes "6:0: aZ = 1\n", [], codes "1: opaque\n3: opaque\n7: opaque\n9: opaque\n")) ∷  -- random-342
    (codes "a\\\n\t\\\r\n-include2:t \r\n |\\\nendef\0\r\n${c}  &: # \\\r\n \\\n\t$x : # \r\nb \t.PHONY:  ; b# \\\r\n", ([], codes "1:0: a -include2: t [0]\n6:0: ${c}&: [0]\n9:0: b .PHONY: [1]\n", codes "4: opaque\n")) ∷  -- random-343
    (codes "CC?= %.c \ndefine :=\\\n\t\\\r\n # \r\n\t\n #\\\\\n>\\\n", (codes "1:0: CC ?= %.c\n2:0: define :=\n", [], codes "7: opaque\n")) ∷  -- random-344
    (codes "\t\\\n\r\n", ([], [], [])) ∷  -- random-345
    (codes "> \r\n ::=\\x.o  #\r\\", ([], [], codes "1: opaque\n2: opaque\n")) ∷  -- random-346
    (codes ".RECIPEPREFIX = >\r\n\\ :\\\r\n.PHONY\\\n\t|a&b # \r\r\n{b\\\n\t\\\r\n::\\\n\\\noverride \\\r\n override  :\n\t$$\\\n\t\r\n$(q:;=|)\\\n:: pr?ivate ifdef?= $(m \\\n n) #\\\\\r\n$(f {)::: \\\n \\\n t $(f {) \r\n\ta \\\n\tb\r\n %.c :b\\\n\r\ntecho a # b\r\n ", (codes "1:0: .RECIPEPREFIX = >\n", codes "21:0: %.c: b [0]\n", codes "2: opaque\n5: rough\n11: opaque\n13: rough\n16: rough\n19: opaque\n23: opaque\n")) ∷  -- random-347
    ([], ([], [], [])) ∷  -- random-348
    (codes "t: $(s\\) \n\ty\r\nendef # c\nifdef ::= \\\n\\$x$( \n>x\na  foo : export  $(X)+= $t \na.b \\\n  := \\# $$ a\\  \n", (codes "4:0: ifdef ::= \\$x$( \n7:0: a foo: export $(X) += $t\n8:0: a.b := \\# $$ a\\ \n", codes "1:0: t: $(s\\) [1]\n", codes "3: opaque\n6: opaque\n")) ∷  -- random-349
    (codes "ifdef\\\nB\n\ta$\n${c}\t-include2:  | $(a b)\\\r\n$(a b) \n #c \\\n d\n", ([], codes "4:1: ${c} -include2: | $(a b) $(a b) [0]\n", codes "3: opaque\nend: conditionals 1\n")) ∷  -- random-350
    []

answers_7 : map (λ row. let lines = document_lines row.0 in (vars_text None lines, rules_text None lines, check_text lines)) rows_7 ≡ map (λ row. row.1) rows_7
unfolding digits
answers_7 = refl

abbrev rows_8 : List (List ℕ × (List ℕ × List ℕ × List ℕ))
rows_8 =
    (codes " # c\nfoo: x.o -include2\n.define Q\n\t \n \\\n\tifdef\\\nB\n$(f {):$(s\\) \\\r\n :c foo\t$(f {)\t\n\tx\ta;\\\\\n>a\\\r\n>b\n$$ : -include2 #\\\\\n\\\n#\nexport!", ([], codes "2:0: foo: x.o -include2 [0]\n8:1: $(f {): $(s\\): c foo $(f {) [1]\n13:1: $$: -include2 [0]\n", codes "3: opaque\n4: opaque\n11: opaque\n16: opaque\nend: conditionals 1\n")) ∷  -- random-351
    (codes "a\\b= $(f {)# c\n%.c :%.c c # \\\n", (codes "1:0: a\\b = $(f {)\n", codes "2:0: %.c: %.c c [0]\n", [])) ∷  -- random-352
    (codes "ifdef=\\\n\t2 3 a&b \n.a\\\n\\\n\t\n", (codes "1:0: ifdef = 2 3 a&b\n", [], codes "3: opaque\n")) ∷  -- random-353
    (codes ".RECIPEPREFIX = X\n", (codes "1:0: .RECIPEPREFIX = X\n", [], [])) ∷  -- random-354
    (codes "a&b\ta : \ta&b \nCC?=\\\n${g(} #c \\\n d", (codes "2:0: CC ?= ${g(}\n", codes "1:0: a&b a: a&b [0]\n", [])) ∷  -- random-355
    (codes ".RECIPEPREFIX = $$\n+>\n|;& +\\\n&&\\\n\n\t\\\n$(s\\) \t.PHONY: ${g(}\\\\\\\n$x\tfoo \t|  \nfoo\t${c}: \\\na |$$ \n>endef", (codes "1:0: .RECIPEPREFIX = $$\n", [], codes "2: opaque\n3: opaque\n6: opaque\n9: rough\n11: opaque\n")) ∷  -- random-356
    (codes "# c\r\n\ty\r\noverride \\\r\n Y!  ::= \\\n  $$ a&b \n", (codes "3:0: override Y! ::= $$ a&b\n", [], codes "2: opaque\n")) ∷  -- random-357
    (codes ".RE\t\\\nCIPEPREFIX = t\n+${\r\n>{:|\\=b|\\\n\nadefine \rQ\n\t#c \\\n d\n.RECIPEPREFIX = \\x\n\t\n\tdefine Q\nc: \\\n.PHONY\t", (codes "9:0: .RECIPEPREFIX = \\x\n", [], codes "1: opaque\n3: opaque\n4: rough\n6: opaque\n7: opaque\nend: defines 1\n")) ∷  -- random-358
    (codes " \\\n\tload x\r\n\t#c\r\nb&:   \r\n\ta\\\r\n>b\r\n\tZ = 1\nendef # c\r\n", ([], codes "4:0: b&: [2]\n", codes "8: opaque\n")) ∷  -- random-359
    (codes "\\+=\\a$\ninclude a\n # \r\n\t\\\n%.c: b ;  a\\  t \\\n \\\n ${g(}\n\ta \\\n\tb\n\t\\\n\ndefine \n.RECIPEPREFIX\\\r\n+=${u\\\n\\\n", (codes "1:0: \\+ = \\a$\n", [], codes "4: opaque\n8: opaque\n10: opaque\nend: defines 1\n")) ∷  -- random-360
    (codes "foo: b %.c\r\n>\r\n-include2 :$(q:;=|)\t;\n>endef\n\tifdef Z\r\n\t\\\n\r\n\t.PHONY $(p #) &: $(f {)|\t#\0\r\na : \\\n  $(q:;=|): %.o $(p # \t$(p #) \\\n  \r\nb &:: x.o \\\n\n\ta\\\\\r\nb \t%|.o &: a.b :=\\$x \r\n", ([], codes "1:0: foo: b %.c [0]\n3:0: -include2: $(q:;=|) [1]\n12:0: b&:: x.o [1]\n", codes "2: opaque\n4: opaque\n5: opaque\n6: opaque\n8: opaque\n9: rough\n15: rough\n")) ∷  -- random-361
    (codes "endif #b c\nifeq (a,$(b\nX\t\\\n}&define\\X\nt :: X$  += \n", (codes "5:1: t:: X$  +=\n", [], codes "1: opaque\n3: opaque\nend: conditionals 1\n")) ∷  -- random-362
    (codes ".RECIPEPREFI}= %\nfoo: \nendif #\nifneq", (codes "1:0: .RECIPEPREFI} = %\n", codes "2:0: foo: [0]\n", codes "3: opaque\nend: conditionals 1\n")) ∷  -- random-363
    (codes "endef != \nendef\nfoo: a&b ${c}\n\ta\\\\\n#\n>$(\n b &:  \n", (codes "1:0: endef !=\n", codes "3:0: foo: a&b ${c} [1]\n7:0: b&: [0]\n", codes "2: opaque\n6: opaque\n")) ∷  -- random-364
    (codes "\techo a # b\nt  $x endef: $(f {): $$ ", ([], codes "2:0: t $x endef: $(f {): $$ [0]\n", codes "1: opaque\n")) ∷  -- random-365
    (codes "\t\\\n\r\nt1::= t\r\n. \n\tdefine Q\r\na&b \tx: %.o $$\t$(f {)\n$\r\n\t\\\n\r\n", (codes "3:0: t1 ::= t\n", codes "6:0: a&b x: %.o $$ $(f {) [0]\n", codes "4: opaque\n5: opaque\n7: opaque\n8: opaque\n")) ∷  -- random-366
    (codes "\ta\\\r\n\t", ([], [], codes "1: opaque\n")) ∷  -- random-367
    ([], ([], [], [])) ∷  -- random-368
    (codes "\t\\\nifdef  :::= $(s\\)  : 2 3\n%.c :: ; \\\n${c} ${c}\t$( \nifdef A\n%.o &::-include2 \nx.o \\\nt: :  \n.RECIPEPREFIX = :\n", (codes "1:0: ifdef :::= $(s\\)  : 2 3\n9:1: .RECIPEPREFIX = :\n", codes "3:0: %.c:: [1]\n6:1: %.o&:: -include2 [0]\n", codes "7: rough\nend: conditionals 1\n")) ∷  -- random-369
    (codes "override+= \\\r\n  \n:X ::=a\\  %.c #c \\\n d", (codes "1:0: override +=\n3:0: : X ::= a\\  %.c\n", [], [])) ∷  -- random-370
    ([], ([], [], [])) ∷  -- random-371
    (codes "endef # c\nendef\r\nt1::=  # x ; y : z = 1\r\ndefine  ${g(}:${c} b \r\n\telse\r\n.RECIPEPREFIX=\\\n>>\nfoo:\\\n\\\n.PHONY\n\ta\\\r\n>b\n.y\r\r\n", (codes "3:0: t1 ::=\n", [], codes "1: opaque\n2: opaque\nend: defines 1\n")) ∷  -- random-372
    (codes "${c} &: $(a b) foo\\\n#c \\\n d\r\n\telse\r\n", ([], codes "1:0: ${c}&: $(a b) foo [1]\n", [])) ∷  -- random-373
    (codes ".RECIPEPREFIX = c\r\nfoo: ${g(}\n>$(\nt1\t:::=  \\\n \\\n \r\nifndef X # c\r\n%.o &:$(s\\) $(a b) $(q:;=|) |$(s\\)\r\n", (codes "1:0: .RECIPEPREFIX = c\n4:0: t1 :::=\n", codes "2:0: foo: ${g(} [0]\n", codes "3: opaque\n8: rough\nend: conditionals 1\n")) ∷  -- random-374
    (codes ".RECIPEPREFIX = c\n", (codes "1:0: .RECIPEPREFIX = c\n", [], [])) ∷  -- random-375
    (codes ".RECIPEPREFIX = e\na: foo $(f {)\n\t\n# c\nta \\\n\tb\ndefine!= x.o -include2\n\tprivate\\\n\t\\\r\nX += 2 3 %.ca\\:b\\\r\n\nifndef X # c\n-x_9 ?=  \\\n \\\n \ne$(\nt1 += c \n", (codes "1:0: .RECIPEPREFIX = e\n7:0: define != x.o -include2\n8:0: private X += 2 3 %.ca\\:b\n13:1: -x_9 ?=\n17:1: t1 += c\n", codes "2:0: a: foo $(f {) [0]\n", codes "5: opaque\n16: opaque\nend: conditionals 1\n")) ∷  -- random-376
    (codes "$(q:;=|): $(p #) .PHONY b # c\nx.o y: x.\ty\r\nt#c\n \\\n\n\\#x+= \\\r\n foo | \\\n \\\n ${g(} \n# \r\nA := =c \n!: \t\\\n\0(\\\\\n\ndefine E # c\nexport \t-x_9 := \\$x $(f {)# \r\n", (codes "6:0: \\#x += foo | ${g(}\n11:0: A := =c\n", codes "1:0: $(q:;=|): $(p #) .PHONY b [0]\n2:0: x.o y: x. y [0]\n", codes "3: opaque\n12: opaque\nend: defines 1\n")) ∷  -- random-377
    (codes "t1 :::= \n $\\\\\n:?b?a:|={\r\n\t\\\n${g(}:: %.o -include2\\\n\r\n>${c} &: CC \\\n \\\n ::=.PHONY \n b&:: \r\n\ta\\\r\n>b\nA += $# \\\n \\\n $(a b)  =#\r\n\ta\\\\", (codes "1:0: t1 :::=\n13:0: A += $# $(a b)  =\n", codes "10:0: b&:: [1]\n", codes "2: opaque\n3: rough\n7: rough\n16: opaque\n")) ∷  -- random-378
    (codes "$(f {)&:: \tc :$(s\\) \\\n \\\n foo \\\n  ${c} | \nendef x\n", ([], [], codes "1: rough\n5: opaque\n")) ∷  -- random-379
    (codes "foo: \n>a \\\n\tb\n>endif\n>$(\r\n\ta\\\r\n>b\r\n", ([], codes "1:0: foo: [0]\n", codes "2: opaque\n4: opaque\n5: opaque\n6: opaque\n")) ∷  -- random-380
    (codes ">\\\n\n \\\n\n", ([], [], codes "1: opaque\n")) ∷  -- random-381
    (codes "export X\n\t\\\nY\t+=\\\r\n \n\tdefine Q\n.define Q\ne \n\ta\\\nifdef A", (codes "2:0: Y +=\n", [], codes "end: defines 1\n")) ∷  -- random-382
    (codes "\ty\r\n\nprivate private override \\>  ::= : \r\n$(s\\) :::\\\r\n$(){)\r\n\r\nay\r\r\n$(s\\)::: x.o\\\n\t\\\r\n$(a b) \t%.o \r\n\ta\\\r\na&b :::c|\\\n\\\n \\\n  #\0\r\net: u\r\n", (codes "3:0: private private override \\> ::= :\n", codes "16:0: et: u [0]\n", codes "1: opaque\n4: rough\n7: opaque\n8: rough\n")) ∷  -- random-383
    (codes "\t\\\nX := \\\n \\\n \0\\\r\n\n>endef ::=\t\\$x | b\t#\nX \\\n \\\n ?=  #\\\\\n$$  &:$(f {)\tx.o| $(s\\)\n\\\n# \r\nfoo::: foo\\\n\\\n${c}\t$x \t\nendif # c\n\\\nexport private define F \\\n\nt\\\n", (codes "6:0: >endef ::= \\$x | b\n7:0: X ?=\n", [], codes "1: opaque\n10: rough\n13: rough\n16: opaque\nend: defines 1\n")) ∷  -- random-384
    (codes "$$ : b\\\n\t: $(p #)# \r\nfoo: b\nelse+ifdef Q\n\\\n# \\\no-$(a b) :::=\\$x = -include2\\\r\n#\\\\\n", ([], codes "1:0: $$: b: $(p #) [0]\n3:0: foo: b [0]\n", codes "4: opaque\n")) ∷  -- random-385
    (codes "X ?=  %.c  : # x ; y : z = 1\r\ndefine = \\\n #\0\r\nendif\r\n%.c $(s\\) :\t$(s\\)\\\\\\\n# \r\r\nx.o y: \n>$(\ntendif\r\na: \nifeq (a,$(b\n\tifdef Z\n\tt: u\r\n", (codes "1:0: X ?= %.c  :\n", codes "7:0: x.o y: [0]\n10:0: a: [2]\n", codes "2: opaque\n4: opaque\n5: opaque\n8: opaque\n9: opaque\nend: conditionals 1\n")) ∷  -- random-386
    (codes "ovbrride override \\\r\n define = $\\\n  #\nx.o&:>q \t+= \t$$\\\n\t$# \na: \n>endef\nY+= $(a 1 \nendef\n\nx.o y: $(p #)\n\t\\\n\n\ta\\\r\n>\n>ifdef Z\n", (codes "8:0: Y += $(a 1 \n", codes "6:0: a: [0]\n11:0: x.o y: $(p #) [2]\n", codes "1: opaque\n4: rough\n7: opaque\n9: opaque\n16: opaque\n")) ∷  -- random-387
    (codes ">a\\\r\n>b\nfoo:%.o a a \r\n-x_9 +=\r\n\telse", (codes "4:0: -x_9 +=\n", codes "3:0: foo: %.o a a [0]\n", codes "1: opaque\n5: opaque\n")) ∷  -- random-388
    (codes "$=  \n(endef\\\\\n?$}\n$(p #) $(f {) &:$x \t$(s\\)\t${c}# x ; y : z = 1\n>q \t::= \\\r\n\na:::  #\\\\\nendef # c\n\\\nifndef X # c\n.a\\\n$x %.c: : a&b  $(f {)\tfoo", (codes "5:0: >q ::=\n", codes "4:0: $(p #) $(f {)&: $x $(s\\) ${c} [0]\n", codes "1: opaque\n2: opaque\n3: opaque\n7: rough\n8: opaque\n11: rough\nend: conditionals 1\n")) ∷  -- random-389
    (codes "\tx\nx.o&:\\\n\t\\\r\n$(a b) : -in=lude2 a # \\", ([], [], codes "1: opaque\n2: rough\n")) ∷  -- random-390
    (codes "Y+= $(p #) -include2 \r\nendef x\r\noverride:=  \r\n\tZ = 1\r\n # c\r\n|\\\n\r\n\n\t\n&(\r\n", (codes "1:0: Y += $(p #) -include2\n3:0: override :=\n4:0: Z = 1\n", [], codes "2: opaque\n6: opaque\n9: opaque\n10: opaque\n")) ∷  -- random-391
    (codes " override X\n>overri) += ${c} \\# \na: $(f {)\n\n.RECIPEPREFIX =\\\n\n.$(\n\\\n=# \\\n", (codes "2:0: >overri) += ${c} \\#\n5:0: .RECIPEPREFIX =\n", codes "3:0: a: $(f {) [0]\n", codes "1: opaque\n7: opaque\n8: opaque\n")) ∷  -- random-392
    (codes "$$ &:: \\\r\n $(q:;=|) $(p #) | \t$$\r\n\techo a # b\r\n", ([], codes "1:0: $$&:: $(q:;=|) $(p #) | $$ [1]\n", [])) ∷  -- random-393
    (codes ">y\r\n\tendef\na: \nexport\n%.c\tx.o:$(q:;=|) \t$(a b)  $x\t\nbb=\ndefine\n&!\0\t\0\\$\n\\\\\n$)\n$$:%.o | t# \\\nt &: ${g(} \\\n  : a&b|  ", (codes "6:0: bb =\n", codes "3:0: a: [0]\n5:0: %.c x.o: $(q:;=|) $(a b) $x [0]\n", codes "1: opaque\n2: opaque\nend: defines 1\n")) ∷  -- random-394
    (codes "\tCC += \nay\r\n+: \r\n>endef\n$$\\\r\n: : $(f {)\tt\r\nx.o :\tx.o:a t $(s\\)\r\n%.c :  \r\n", (codes "1:0: CC +=\n", codes "3:0: +: [0]\n7:0: x.o: x.o: a t $(s\\) [0]\n8:0: %.c: [0]\n", codes "2: opaque\n4: opaque\n5: rough\n")) ∷  -- random-395
    (codes "\techo a # b\n-include2&::$(a b) \t\n.PHONY: : $(a b) \t$(f {) %.c # \\\n # x ; y : z = 1\n\techo a # b\ntt: u", ([], codes "2:0: -include2&:: $(a b) [0]\n6:0: tt: u [0]\n", codes "1: opaque\n3: rough\n")) ∷  -- random-396
    (codes "foo: %.o\naendif\n\ta\\\n\ta \\\n\tb\n\telse\nt1 ?=\\\n\t\\\r\n$\\\n $x ; \n", (codes "7:0: t1 ?= $ $x ;\n", codes "1:0: foo: %.o [0]\n", codes "2: opaque\n3: opaque\n6: opaque\n")) ∷  -- random-397
    (codes "X$   += \0\nifdef !=\0 \n", ([], [], codes "1: opaque\n2: opaque\n")) ∷  -- random-398
    (codes "export define\nx.o y: \n>t: u\nendif # c\n>a: .PHONY %.c\ta #c \\\n d\nx.o y: ${c} a&b\r", ([], [], codes "end: defines 1\n")) ∷  -- random-399
    (codes "\t#c\nendif\nfoo: \n\ta\\\r\n>b\n\ty\r\r\na: $$\n\ta \\\n\tb\r\n ${c} : a:${g(}\n$$:\\\n$(p #) \nfoo: -incl;ude2\n\tdefine Q\n#\n\r\na.b!= \\\n \\\n ${g(}\t#\0\r\n  $(f {): ;\r\n", ([], codes "3:0: foo: [2]\n7:0: a: $$ [1]\n10:0: ${c}: a: ${g(} [0]\n11:0: $$: $(p #) [0]\n13:0: foo: -incl [2]\n20:0: $(f {): [1]\n", codes "2: opaque\n17: opaque\n")) ∷  -- random-400
    []

answers_8 : map (λ row. let lines = document_lines row.0 in (vars_text None lines, rules_text None lines, check_text lines)) rows_8 ≡ map (λ row. row.1) rows_8
unfolding digits
answers_8 = refl

abbrev rows_9 : List (List ℕ × (List ℕ × List ℕ × List ℕ))
rows_9 =
    (codes "aa\\\\\r\nifdef = x  y\\\\\\  ;\t\r\n-include2&: -include2 \t$$ \n\t# c\n\telse\r\n>endef x\r\nx.o y: ${g(}\n \\\n\tY\\\n\t\\\r\n?=$$\\\n\t\\\r\n\nelse ifdef Q\n>endif\r\n \r\noverride override A != \\\r\n  \r\n-include2 : : foo;  $\\\n a&b \r\n", (codes "2:0: ifdef = x  y\\\\\\  ;\n8:0: Y ?= $$\n17:0: override override A !=\n", codes "3:0: -include2&: -include2 $$ [2]\n7:0: x.o y: ${g(} [0]\n", codes "1: opaque\n6: opaque\n14: opaque\n15: opaque\n19: rough\n")) ∷  -- random-401
    (codes " #\\\\\\\n\r\n\tb\\\n\\\n$(q:;=|)&:: $(p #)\\\r\n-include2 \ta|$(s\\)\t%.c # c\r\n.RECIPEPREFIX::=\\\n>\r\n%.o\t${g(}&::${g(} : \r\nifneq\r\naendef\r\n.PHONY: +$(p #)  foo ; $\\\n \r\n", (codes "7:0: .RECIPEPREFIX ::= >\n", codes "12:1: .PHONY: +$(p #) foo [1]\n", codes "3: opaque\n9: rough\n11: opaque\nend: conditionals 1\n")) ∷  -- random-402
    (codes "endef\r\nifndef X # c\r\nX+=\\\n # \\\r\n>a\\\\\r\n \r\n$(p #) :::\\\n\t\\\r\n$(a b) :$$ ${c}\t.PHONY ;  \n\t\n#\\\\\r\n\t$(q:;=|):%.c | b\t$$ \r\n\ta \\\n\tb\r\n$(X) :::=$$\r\n", (codes "3:1: X +=\n15:1: $(X) :::= $$\n", [], codes "1: opaque\n7: rough\nend: conditionals 1\n")) ∷  -- random-403
    (codes "${c}::: # x ; y : z = 1\r\n$x&::  $(q:;=|) a&b $(p #)\r\noverride  ::= ; \r\n\t \r\n$(a b)  .HONY:: \\\n  $x \\\n${g(} ${g(} \r\nY :::=  # x ; y : z = 1\r\n}\r\n", (codes "3:0: override ::= ;\n8:0: Y :::=\n", codes "2:0: $x&:: $(q:;=|) a&b $(p #) [0]\n5:0: $(a b) .HONY:: $x ${g(} ${g(} [0]\n", codes "1: rough\n9: opaque\n")) ∷  -- random-404
    (codes "endif\noverride define .RECIPEPREFIX\r\n\r\nx.o y: $(s\\)\r\nfoo: \n \n>endef\necho a # b\r\na: \n#c \\\n d\r\n\t$(\nendef\t?= b ", ([], [], codes "1: opaque\n")) ∷  -- random-405
    (codes ">\\\n\n\tdefine Q\r\nelse\n\t\\\n\r\n.RECIPEPREFIX+=>\n", (codes "7:0: .RECIPEPREFIX += >\n", [], codes "1: opaque\n3: opaque\n4: opaque\n5: opaque\n")) ∷  -- random-406
    (codes "private \tprivate t1 ?= x  y \n\tx\n$$ : \n>Z = 1\na.b =\\\r\na&b\\\n\n$(a b) $(f {) : %.c \\\n  a&b\tt \nifndef X # c\n\techo a # b\noverride .RECIPEPREFIX= :\n \\\n\t${g(} : $(a b) :  |  \\\n\n", (codes "1:0: private private t1 ?= x  y\n4:0: >Z = 1\n5:0: a.b = a&b\n12:1: override .RECIPEPREFIX = :\n", codes "3:0: $$: [0]\n8:0: $(a b) $(f {): %.c a&b t [1]\n13:1: ${g(}: $(a b): [0]\n", codes "2: opaque\nend: conditionals 1\n")) ∷  -- random-407
    (codes "${c} : a&b | \\\na&b $(s\\) \r\n\tifdef Z\r\n-include2 \\\n   &: a : a t ;$(a b) $(a b)\r\ntt: u\r\n$(q:;=|): $(s\\) \r\n\t\r\n$(q:;=|): $(q:;=|) fox.o\t%.c\r\n-include2&:$(p #)  ${c} \r\nendif\r\n", ([], codes "1:0: ${c}: a&b | a&b $(s\\) [1]\n6:0: tt: u [0]\n7:0: $(q:;=|): $(s\\) [1]\n9:0: $(q:;=|): $(q:;=|) fox.o %.c [0]\n10:0: -include2&: $(p #) ${c} [0]\n", codes "4: rough\n11: opaque\n")) ∷  -- random-408
    (codes ".RECIPEPREFIX = .\r\n.RECIPEPREFIX :::=>\nprivate\\\n\t\\\r\na.b+= %.c \r\n\\\nvpath %.c a\na\\=  += $(f {) $(s)\\\n\t${c}\na: ${g(}\n\t\\\n\na#c\n>endif\r\na$(\n#\r\n", (codes "1:0: .RECIPEPREFIX = .\n2:0: .RECIPEPREFIX :::= >\n3:0: private a.b += %.c\n8:0: a\\= += $(f {) $(s) ${c}\n", codes "10:0: a: ${g(} [0]\n", codes "13: opaque\n14: opaque\n15: opaque\n")) ∷  -- random-409
    (codes ".RECIPEPREFIX = a\na: \n\t\noverride ?=; c # c\n", (codes "1:0: .RECIPEPREFIX = a\n4:0: override ?= ; c\n", [], codes "2: opaque\n")) ∷  -- random-410
    (codes "foo: \n>ifdef Z\r\nendef :::=$ a\\\n\r\ndefine E # c\r\n>q =c\t#\\\\\r\n", (codes "3:0: endef :::= $ a\n", codes "1:0: foo: [0]\n", codes "2: opaque\nend: defines 1\n")) ∷  -- random-411
    (codes ".RECIPEPREFIX = a\r\nifneq\r\n\tifdef Z\r\n\telse\r\n$(a b) \t: ${c} foo \r\n\t\\\n\r\n%.c &::$(s\\)\\\r\n:  x.o foo\ta# \\\r\nexport private define D\r\n\ta\\\r\n>b\\\n", (codes "1:0: .RECIPEPREFIX = a\n", codes "5:2: $(a b): ${c} foo [0]\n", codes "8: rough\n11: opaque\nend: conditionals 2\n")) ∷  -- random-412
    (codes "\techo a # b\n>endef # c\nc\t&: t : .PHONY $(s\\)\n\ta\\\n\ta\\\\\n%.c &:: x.o .PHONY | $(f {) $(u  \n", ([], [], codes "1: opaque\n2: opaque\n3: rough\n6: rough\n")) ∷  -- random-413
    (codes "o-$(a b)=  \n#c \\\n d\n\n\\\\\n\nc : :${c} :  \nY :=t \n!$\\\\\n\t\\\\\n}(a=:$", (codes "1:0: o-$(a b) =\n8:0: Y := t\n11:0: }(a = :$\n", [], codes "5: opaque\n7: rough\n9: opaque\n10: opaque\n")) ∷  -- random-414
    (codes ".RECIPEPREFIX = -\n\\ $x\\\n:: override::= $ 2 3# c\nendif # c\n\tt: u\na: \n\t \n$(s\\) : %.o ${c}  %.c ;a\\  \t\na: $(p #)\n$(p #)\\\r\n-include2 \\\n  &:a.b := a \\\n  \0 # \r\nX ::=%.o \nexport export X\\\n\t\\\r\n+= \\\n \\\n \\# # ", (codes "1:0: .RECIPEPREFIX = -\n2:0: \\ $x:: override ::= $ 2 3\n14:0: X ::= %.o\n15:0: export export X += \\#\n", codes "5:0: t: u [0]\n6:0: a: [0]\n8:0: $(s\\): %.o ${c} %.c [1]\n9:0: a: $(p #) [0]\n", codes "4: opaque\n10: opaque\n")) ∷  -- random-415
    (codes "\\#x \\\n?= x  y t \r\nta\\\\\nifndef X # c", (codes "1:0: \\#x ?= x  y t\n", [], codes "3: opaque\nend: conditionals 1\n")) ∷  -- random-416
    (codes "$$: :.PHONY :x.o  a x.o\r\n", ([], [], codes "1: rough\n")) ∷  -- random-417
    (codes "endif\n>q \\\n  :::=-include2 a&b \n", (codes "2:0: >q :::= -include2 a&b\n", [], codes "1: opaque\n")) ∷  -- random-418
    ([], ([], [], [])) ∷  -- random-419
    (codes "\t \n>\\\n\n", ([], [], codes "2: opaque\n")) ∷  -- random-420
    (codes ">b &: \nfoo: %.o \tt \n\tx\n\ta\\\\\n\t \ndefine D\nendef += \t # \r\nfoo: \ntt: u\n\tdefine Q\n-include2 \n  :\\\nprivate \ta.b::=\\\n\\\n\n\t \nX\r)=:\n", (codes "12:0: : private a.b ::=\n", codes "1:0: >b&: [0]\n2:0: foo: %.o t [3]\n8:0: foo: [0]\n9:0: tt: u [1]\n", codes "11: opaque\n17: opaque\n")) ∷  -- random-421
    (codes "override=$\\\r\n \\\n  \r\n.a \\\n\tb\r\nx.o y: \n\t$(\n\\\n\t\r!\n", (codes "1:0: override = $ \n", codes "6:0: x.o y: [1]\n", codes "4: opaque\n8: opaque\n")) ∷  -- random-422
    (codes " :: A::=a \n", (codes "1:0: :: A ::= a\n", [], [])) ∷  -- random-423
    (codes "${g(}&:\\\r\nX += $(s\\)\\\n\\\n\r\n\telse\r\n\tx\r\n.RECIPEPREFIX ::=:\na&b&:$$  %.c #\0\r\n\tendif # c\n\t\\\n$x ::: .PHONY : .PHONY#c \\\n d\n", (codes "7:0: .RECIPEPREFIX ::= :\n", [], codes "1: rough\n8: opaque\n9: opaque\n10: rough\n")) ∷  -- random-424
    (codes ">t1 = \\\n   \\\n\r\n\ta \\\n\tb\r\n%.o :foo #\\\\\\\n\n\t#\0\n \\\n\naendef\r\n", (codes "1:0: >t1 =\n", [], codes "4: opaque\n6: opaque\n8: opaque\n11: opaque\n")) ∷  -- random-425
    (codes "\t\\\n\r\n\ta\\\\\na: x.o\nendif\n\t\n \\\n\tCC:::= .PHONYa \\\\\n\\\n#c \\\n d\nx.o y: \n\techo a # b\r\n.RECIPEPREFIX =>\r\nb: : \\\n  -include2\\\n\t\\\r\n\r\na&b::: a c \\\n \\\n #\\\\", (codes "7:0: CC :::= .PHONYa \\\\\n14:0: .RECIPEPREFIX = >\n", codes "4:0: a: x.o [0]\n12:0: x.o y: [1]\n", codes "3: opaque\n5: opaque\n6: opaque\n15: rough\n19: rough\n")) ∷  -- random-426
    (codes " CC ::=.PHONY \r\n\\\nCC!= b a&b\\\r\n$x #\nelse\n${g(} :A \\\r\n ?=  \n\r\nc &: $(p #)\t.PHONY  a \r\n\\\n# c\r\nfoo: %.c\n \\\n\n\t%.o \t%.c&:\\\nx.o\\\r\n%.o\tb \t\n", (codes "1:0: CC ::= .PHONY\n2:0: CC != b a&b $x\n6:0: ${g(}: A ?=\n", codes "9:0: c&: $(p #) .PHONY a [0]\n12:0: foo: %.c [1]\n", codes "5: opaque\n")) ∷  -- random-427
    (codes "private private X :::=\\# %.c \nCC \\\n  !=x  y \\\n\\# b \n>?\ndefine :=\\\n\t\\\n\nx.o y: t\n\t$(\n\t$(\n.x\n&\r\n>!endef$!!\0\\\n!\n", (codes "1:0: private private X :::= \\# %.c\n2:0: CC != x  y \\# b\n6:0: define :=\n", codes "9:0: x.o y: t [2]\n", codes "5: opaque\n12: opaque\n13: opaque\n14: opaque\n")) ∷  -- random-428
    (codes "$(s\\):\tt|$$ #\\\\\\\n\r\nx.o&:: .PHONY \nifneq\r\nx=1 &:: $$ \r\n \r\n\texport\r\nendef !=\\\\\n$(w \\\n\\\n\t\r\n", (codes "5:1: x = 1 &:: $$\n8:1: endef != \\\\\n", codes "3:0: x.o&:: .PHONY [0]\n", codes "1: opaque\n9: opaque\nend: conditionals 1\n")) ∷  -- random-429
    (codes ".RECIPEPREFIX = :\n a:  $(s\\) ; 1 \t=\\\n\t${c}\n>else\na: foo\n\ta\\\n.\\\n\nfoo: $x\nendif # c", (codes "1:0: .RECIPEPREFIX = :\n", codes "2:0: a: $(s\\) [1]\n5:0: a: foo [0]\n9:0: foo: $x [0]\n", codes "4: opaque\n6: opaque\n10: opaque\n")) ∷  -- random-430
    (codes "\t\\\n>\t|:):a!;&\t\na: %.o \\\nx.o\n\ta\\\\\n>y\r\n\tt: u\n\tendef\noverride\\\n\t\\\r\nCC\\\n\t\\\r\n:::=a = $ \t#\0\n&: endef::=  \n  : t1\\\n= ; \\\n\n\\\\\n$>}|$;$\r\\:\n", (codes "15:0: : t1 = ;\n", codes "3:0: a: %.o x.o [1]\n", codes "1: opaque\n6: opaque\n7: opaque\n8: opaque\n9: opaque\n14: rough\n18: opaque\n19: opaque\n")) ∷  -- random-431
    (codes "\ta\\\r\n>b\n\nendef\n\ty\r\n$(a b) &:a.b ?=\n> \na.b+= 2 3 \nendif\n", (codes "8:0: a.b += 2 3\n", [], codes "1: opaque\n4: opaque\n5: opaque\n6: rough\n7: opaque\n9: opaque\n")) ∷  -- random-432
    (codes ".RECIPEPREFIX = :\nea\\\r\n>b\nY \\\n = b \t$# \\\n \\\n #\n$$:\\\r\n$$\n\tt: u\nelse ifdef Q\nt &: o=erride\\\n\t\\\r\n!= \r \n", (codes "1:0: .RECIPEPREFIX = :\n4:0: Y = b \t$#\n", codes "8:0: $$: $$ [0]\n10:0: t: u [0]\n", codes "2: opaque\n11: opaque\n12: opaque\n")) ∷  -- random-433
    (codes "endif\n-x_9 ?= x y \\\n  \na: $x  $x\n\ntelse\n \n", (codes "2:0: -x_9 ?= x y\n", codes "4:0: a: $x $x [0]\n", codes "1: opaque\n6: opaque\n")) ∷  -- random-434
    (codes "${c}\t$(p #) : \t$(q:;=|) \r\noverride \\\n  ?=  \t\r\n$(s\\)  :${c}#\\\\\\\n\r\n$$:\\\n\tfoo : \r\na&::\\\n\t$(q:;=|) ; \\\\ \\\n$# \0\t#\\\\\\\n\r\n # x ; y : z = 1\r\n${c}: ${c}\t\r\n$(p #): \\\n$(f {) %.c\\\n\ta&b ", (codes "2:0: override ?=\n", codes "1:0: ${c} $(p #): $(q:;=|) [0]\n6:0: $$: foo: [0]\n13:0: ${c}: ${c} [0]\n14:0: $(p #): $(f {) %.c a&b [0]\n", codes "4: opaque\n8: opaque\n")) ∷  -- random-435
    (codes "export privat\n defin\t\\\nF \\\n\n\tZ = 1\n-x_9 := # x ; y : z = 1\nelse\n${g(}: \t \n# c\n\\\n\t\n", (codes "6:0: -x_9 :=\n", codes "8:0: ${g(}: [0]\n", codes "2: opaque\n5: opaque\n7: opaque\n")) ∷  -- random-436
    ([], ([], [], [])) ∷  -- random-437
    (codes "foo &:%.o $(f {) \\\n", ([], [], codes "1: rough\n")) ∷  -- random-438
    (codes " CC= \\$x#c \\\n d\nx.o\t.PHONY:::\tx.o \telse\t$(f {) | a \n$x : \\\n \\\n .PHONY \noverride \\\n  A ::=\\\r\nx  y $(p #)\t%.c\n$(s\\): | \\\n    \n-include2  $$ :: $(s\\) :${c}\\\n\t# \r\n", (codes "1:0: CC = \\$x\n7:0: override A ::= x  y $(p #)\t%.c\n", codes "4:0: $x: .PHONY [0]\n10:0: $(s\\): [0]\n", codes "3: rough\n12: rough\n")) ∷  -- random-439
    (codes "\ta\\\n$(a b): c a&b $(a b) \n\t\nifdef::= ;\\\n\\\n# x ; y : z = 1\n-include2 \\\n \\\n x.o  &: \n>endef\nendef !=\\\r\nx.o \\\n# \r\n\tendif", (codes "4:0: ifdef ::= ;\n11:0: endef != x.o\n", codes "7:0: -include2 x.o&: [0]\n", codes "1: opaque\n3: opaque\n10: opaque\n14: opaque\n")) ∷  -- random-440
    (codes "\\\n\t\r\n\tt  &: a $(q:;=|) \r\nfoo: \n\t\n\n.x\r\nc\\\n\t&:: \n\t\\\nexport private define E # c\r\n#\\\\\nprivate t1 \\\n \\\n ?= \r\noverride X\n", (codes "13:0: private t1 ?=\n", codes "4:0: foo: [1]\n8:0: c&:: [1]\n", codes "3: opaque\n7: opaque\n16: opaque\n")) ∷  -- random-441
    (codes "foo: b\n>a\\\naendif\r\nx.o y: ${g(}\n\ty\r\r\n.RECIPEPREFIX= >\r\nendef\r\nc &:foo# \r\r\nCC ::= \\\r\n \\$x\\\n\t\\\r\n\r\n\r\nY\\\n\t\\\r\n:::= \\$x\\\r\n\r\n", (codes "6:0: .RECIPEPREFIX = >\n9:0: CC ::= \\$x\n14:0: Y :::= \\$x\n", codes "1:0: foo: b [0]\n4:0: x.o y: ${g(} [1]\n", codes "2: opaque\n7: opaque\n8: opaque\n")) ∷  -- random-442
    (codes "b : :%.c | $(p #) $x\\\r\n", ([], [], codes "1: rough\n")) ∷  -- random-443
    (codes "ifeq (a,$(b\na: x.o\n\tendif\n.RECIPEPREFIX ::=\\\n.\n \n : ifdef \\\n \\\n := t\\\n\\\n# \\\n>-x_9 +=\\\\\n\n\t# \\\n \\\n\tc: ${c} .PHONY\tc ", (codes "4:1: .RECIPEPREFIX ::= .\n7:1: : ifdef := t\n", codes "2:1: a: x.o [1]\n", codes "end: conditionals 1\n")) ∷  -- random-444
    (codes "ifneq\ne}se ifdef Q\r", ([], [], codes "2: opaque\nend: conditionals 1\n")) ∷  -- random-445
    (codes "\t\\\nvpath %.c a\n\\\n\t\r\nfoo: \n$(p #) \ta&: $(f {) \nendef\r\nt ${c} \t&: ${c} \t$(q:;=|)\t| \t%.c", ([], codes "5:0: foo: [0]\n6:0: $(p #) a&: $(f {) [0]\n8:0: t ${c}&: ${c} $(q:;=|) | %.c [0]\n", codes "7: opaque\n")) ∷  -- random-446
    (codes "foo: \n\ty\r\n\\\n\t\r\n \\\n\r\na : : e$#f\ta&b\r\n\t \r\ntifdef Z\r\nendif\r\nb : $$ c # \r\r\nifdef!= \r\n\0X$define=\r\n;\r\n", (codes "12:0: ifdef !=\n", codes "1:0: foo: [1]\n", codes "7: rough\n9: opaque\n10: opaque\n11: opaque\n13: opaque\n14: opaque\n")) ∷  -- random-447
    (codes " \\\n\nfoo\tx.o:$(s\\) a |  \t\n\\\nc: ${c} .PHONY \tx.o \n", ([], codes "3:0: foo x.o: $(s\\) a [0]\n4:0: c: ${c} .PHONY x.o [0]\n", [])) ∷  -- random-448
    (codes "\tendef\n", ([], [], codes "1: opaque\n")) ∷  -- random-449
    (codes "$$: :%.c t |foo\t%.c ; \\\r\n  \n\telse ifdef Q\ninclude x.o:export\t>q::= $$ $#\t# x ; y : z = 1\ndefine != \\\r\n $$\\#\n-include2 $x\\\n\t&: -x_9 \\\n  !=b$x\\\n\t# x ; y : z = 1\nx.o\t$(s\\) :: A \\\r\n ?=\t \nprivate  t1\t?= \\# \\\\", (codes "5:0: define != $$\\#\n11:0: x.o $(s\\):: A ?=\n13:0: private t1 ?= \\# \\\\\n", [], codes "1: rough\n7: rough\n")) ∷  -- random-450
    []

answers_9 : map (λ row. let lines = document_lines row.0 in (vars_text None lines, rules_text None lines, check_text lines)) rows_9 ≡ map (λ row. row.1) rows_9
unfolding digits
answers_9 = refl

abbrev rows_10 : List (List ℕ × (List ℕ × List ℕ × List ℕ))
rows_10 =
    (codes "\tt: u\nunexport Y\nX+=\\#\0\n%.o :\t\nx.o\t: :%.o $(s\\) t \n-x_9 = %.o# \\\ndefine E # c\n", (codes "6:0: -x_9 = %.o\n", codes "4:0: %.o: [0]\n", codes "1: opaque\n3: opaque\n5: rough\n")) ∷  -- random-451
    (codes "override \\\r\n = $(p #) \r\n\\\n#\\\\\\\n\n>\\\n\n\t$(\r\n.PHONY&::$(q:;=|) $$ ${g(} \\\n  | \t\t\r\n.PHONY\\\n\t$x : \t${c} foo b; \t\r\na&b\\\n$x : ifdef :::=a#\\\\\r\n>define Q\n\t ", (codes "1:0: override = $(p #)\n13:0: a&b $x: ifdef :::= a\n", codes "9:0: .PHONY&:: $(q:;=|) $$ ${g(} [0]\n11:0: .PHONY $x: ${c} foo b [1]\n", codes "6: opaque\n8: opaque\n15: opaque\n16: opaque\n")) ∷  -- random-452
    (codes ".RECIPEPREFIX = d\r\n\\\n\t\r\n \\\n\r\nb : :|d\\\n\t$x  |  \r\n ifndef X # c\r\ndefine::= |\\\\\\", (codes "1:0: .RECIPEPREFIX = d\n", [], codes "6: rough\nend: conditionals 1\n")) ∷  -- random-453
    (codes "$=:$)+\nifdef:= \n \\\n\tifdef += $# \t# x ; y : z = 1\n", (codes "2:0: ifdef :=\n3:0: ifdef += $#\n", codes "1:0: $=: $)+ [0]\n", [])) ∷  -- random-454
    (codes "endef:::= \r\\\\ #c \\\n d\r\n\t\r\n$(f {) &: $(f {) .PHONY|  \r\na: $(s\\)\n\tifdef Z\nay\r\n>a\\\\\r\n.PHONY: | %.o #\\\\\\\n\r\n.RECIPEPREFIX :::=\\\n>\r\nendef # c\r\n", (codes "11:0: .RECIPEPREFIX :::= >\n", codes "5:0: a: $(s\\) [1]\n", codes "1: opaque\n3: opaque\n4: rough\n7: opaque\n8: opaque\n9: opaque\n13: opaque\n")) ∷  -- random-455
    (codes ">#c\na.b  :::=c \n%.c \t:: a $(p #) ; $(\nq:;=|\n #\0\n\tenendefdif\r\n#c \\\n d\r\n.RECIPEPREFIX=\\\n>>\na: ", (codes "2:0: a.b :::= c\n9:0: .RECIPEPREFIX = >>\n", codes "3:0: %.c:: a $(p #) [1]\n4:0: q: [2]\n11:0: a: [0]\n", codes "1: opaque\n")) ∷  -- random-456
    ([], ([], [], [])) ∷  -- random-457
    (codes "ifneq\nx.o y: \n>a\\\\\n \nex\n#\n>Z = 1\na&b c: :  # \\", (codes "7:1: >Z = 1\n", codes "2:1: x.o y: [0]\n", codes "3: opaque\n5: opaque\n8: rough\nend: conditionals 1\n")) ∷  -- random-458
    (codes ".RECIPEPREFIX = d\r\n\r\n${c} t : >q:=a $\\\n \r\n> \r\nfoo: \n\tendef\r\noverride X\r\na&b :  X\t+=  \r\n$(p #)&: c $(f {) b", (codes "1:0: .RECIPEPREFIX = d\n3:0: ${c} t: >q := a $ \n9:0: a&b: X +=\n", codes "6:0: foo: [0]\n10:0: $(p #)&: c $(f {) b [0]\n", codes "5: opaque\n7: opaque\n8: opaque\n")) ∷  -- random-459
    (codes ".RECIPEPREFIX =\\\n\n${g(} foo: \\\n| c %.c\\\n\t\n#\nfoo: \naa\\\n", (codes "1:0: .RECIPEPREFIX =\n", codes "3:0: ${g(} foo: | c %.c [0]\n7:0: foo: [0]\n", codes "8: opaque\n")) ∷  -- random-460
    (codes "export Y =b x  y\r\n : X$  != a\\:b \\\n$(w \\ \n %.o #c \\\n d\n", (codes "1:0: export Y = b x  y\n2:0: : X$  != a\\:b $(w \\ \n", [], codes "4: opaque\n")) ∷  -- random-461
    (codes "# \\\no-$(a b)::= \\\\ \\\n  \na.b ?= \t%.o c\nifeq (a,$(b\n", (codes "4:0: a.b ?= %.o c\n", [], codes "end: conditionals 1\n")) ∷  -- random-462
    (codes "\ty\r\n\t# \\", ([], [], codes "1: opaque\n2: opaque\n")) ∷  -- random-463
    (codes "a: .PHONY a&b\n (\n\tCC ::=\\\n #\\\\\nifndef X # c\r\ndefine :::=  \r\n\\\n$(a b) : $(s\\) \r\n${c} $x : : $(s\\) |\ta \r\na: \n\t \n \r\n\\\n$(a b):\\\n\\\n$(q:;=|) $(s\\) |  t a \\\n\r\n", (codes "6:1: define :::=\n", codes "1:0: a: .PHONY a&b [0]\n7:1: $(a b): $(s\\) [0]\n10:1: a: [1]\n13:1: $(a b): $(q:;=|) $(s\\) | t a [0]\n", codes "2: opaque\n3: opaque\n9: rough\nend: conditionals 1\n")) ∷  -- random-464
    (codes "$x&:  \\\n\r\n$X)endbf $=define\\\\\n?\t\n", ([], codes "1:0: $x&: [0]\n", codes "3: opaque\n4: opaque\n")) ∷  -- random-465
    (codes "a: a b\n>ifdef Z\n>q = a\\\n\t\\\r\n\\\\ \n>x\r\nx.o  %.c:::c  $x | \naZ = 1\n.y\r\n\r\n\t# x ; y : z = 1\r\nt \t${g(}: ${c} $$\r# \\\n\ta\\\nifneq\r\n\\\nendef x\r\n&:\\ \\\nA += ! \\\n \\\r\n", (codes "3:0: >q = a \\\\\n8:0: aZ = 1\n", codes "1:0: a: a b [0]\n", codes "2: opaque\n6: opaque\n7: rough\n9: opaque\n11: opaque\n12: opaque\n15: opaque\n17: opaque\n")) ∷  -- random-466
    (codes "export private  override ?=\r\noverride CC \t?=${c} x.o $(q:;=|) \\\r\n \r\nprivte\\\nX ::=\\\n= # x ; y : z = 1\r\na  : a\\\n\t\\\r\na  -include2\\\n\t\\\r\n\r\n\tendef\r\n.RECIPEPR!EFIX=\r\n", (codes "1:0: export private override ?=\n2:0: override CC ?= ${c} x.o $(q:;=|)\n13:0: .RECIPEPR!EFIX =\n", codes "7:0: a: a a -include2 [1]\n", codes "4: rough\n")) ∷  -- random-467
    (codes ">q :\\:=\tx.o a $(s\\)\r\na&b :  %.o \t${g(} \\\r\n ${g(} \r\nfoo: \n>else\r\n$(f {) \\\r\n :${c}; \t\r\noverride define .RECIPEPREFIX\r\nc:: b \\\r\n .PHONY \\\n$(q:;=|)\r\n>q\\\n\t\\\r\n:= ; \t\r\n", (codes "1:0: >q: \\: = x.o a $(s\\)\n", codes "2:0: a&b: %.o ${g(} ${g(} [0]\n4:0: foo: [0]\n6:0: $(f {): ${c} [1]\n", codes "5: opaque\nend: defines 1\n")) ∷  -- random-468
    (codes "-x_9 != \t$(f {)\\\na\\:b #\\\\\n-x_9 :::= $(q:;=|) #\\\\\n$(q:;=|) : c  -include2|\\\n\\\n%.c\n\tx\n.$(\n\t \n$(q:;=|) :  \t\n>y\r\n.RECIPEPREFIX += X", (codes "1:0: -x_9 != $(f {) a\\:b\n3:0: -x_9 :::= $(q:;=|)\n12:0: .RECIPEPREFIX += X\n", codes "10:0: $(q:;=|): [0]\n", codes "4: rough\n8: opaque\n9: opaque\n11: opaque\n")) ∷  -- random-469
    (codes "\t$(", ([], [], codes "1: opaque\n")) ∷  -- random-470
    (codes ".RECIPEPREFIX = a\r\n\t#c\r\nifdef\\\nB\r\n\techo a # b\r\n>A?=$(b \\\n%.o \r\n$(p #) :: \\\n \\\n private ifdef?= $(w \\\n\r\n export private define X =", (codes "1:0: .RECIPEPREFIX = a\n6:1: >A ?= $(b %.o \n8:1: $(p #):: private ifdef ?= $(w \n", [], codes "5: opaque\nend: conditionals 1\nend: defines 1\n")) ∷  -- random-471
    (codes ".RECIPEPREFIX = .\r\nfoo: a&b\nifdef A", (codes "1:0: .RECIPEPREFIX = .\n", codes "2:0: foo: a&b [0]\n", codes "end: conditionals 1\n")) ∷  -- random-472
    (codes "\nc:: b .PHONY %.o \\\r\n ; \\\n\t\n$$\\\n: \\#x +=foo\n\\\n#\0\n\tdefine Q\n\ta\\\\", (codes "5:0: $$: \\#x += foo\n", codes "2:0: c:: b .PHONY %.o [1]\n", codes "end: defines 1\n")) ∷  -- random-473
    (codes " \\\n\tendefc", ([], [], codes "1: opaque\n")) ∷  -- random-474
    ([], ([], [], [])) ∷  -- random-475
    (codes "\tendef\nea\\\r\n>b\n", ([], [], codes "1: opaque\n2: opaque\n")) ∷  -- random-476
    (codes "\tendif\ntab\\\n", ([], [], codes "1: opaque\n2: opaque\n")) ∷  -- random-477
    (codes "$(f {) &::  \nendef :::= \\\n ", (codes "2:0: endef :::=\n", codes "1:0: $(f {)&:: [0]\n", [])) ∷  -- random-478
    (codes "$(p #):x.o: \\\n \\\n | \\\n  $(q:;=|) ${? \\\n  \nendef # c\n", ([], [], codes "1: rough\n6: opaque\n")) ∷  -- random-479
    (codes ".RECIPEPREFIX =\\\n i\na: \ntendif\n\n\tt: u\n", (codes "1:0: .RECIPEPREFIX = i\n", codes "3:0: a: [0]\n6:0: t: u [0]\n", codes "4: opaque\n")) ∷  -- random-480
    (codes "$(f {) &: \t\\\r\n# \\\na&b\\\n\\\n%.o :a&b :  \n>ifdef Z\nexport \ta.b := \nx.o y: $(f {)\n\tifdef Z\n", (codes "7:0: export a.b :=\n", codes "1:0: $(f {)&: [0]\n8:0: x.o y: $(f {) [1]\n", codes "6: opaque\n")) ∷  -- random-481
    (codes ">a\\\\\n-include2: \t%.o ${c}\tx.o \r\nfoo: -include2 $(q:;=|)\n\t\\\n\nea\\\n>y\r\n\\\n# x ; y: z = 1\n\t# \\\r\n", ([], codes "2:0: -include2: %.o ${c} x.o [0]\n3:0: foo: -include2 $(q:;=|) [1]\n", codes "1: opaque\n6: opaque\n10: opaque\n")) ∷  -- random-482
    (codes "A\t= \n$(f {) &:\\\n\t\\\r\n$(f {)# c\n\\\nY  = \\\n${g(}\n\tendef\nt: \\\n \\\n ${c}\t$x\t$(a b)\nA ::= \n\n\n\t;X\\=\r\n\n", (codes "1:0: A =\n5:0: Y = ${g(}\n12:0: A ::=\n", codes "2:0: $(f {)&: $(f {) [0]\n9:0: t: ${c} $x $(a b) [0]\n", codes "8: opaque\n15: opaque\n")) ∷  -- random-483
    ([], ([], [], [])) ∷  -- random-484
    (codes "foo: b %.o\nendif\nelse ifdef Q\r\n\t#\\\\\\\n\r\nc\ta&b:: $(f  : ${g(} |d $(q:;=|)|$(a b) \n\t\n\\\nexport define\n\ta \\\n\tb\r\n", ([], codes "1:0: foo: b %.o [0]\n", codes "2: opaque\n3: opaque\n4: opaque\n6: rough\nend: defines 1\n")) ∷  -- random-485
    (codes "-x_9= x.o c $(a b) # c\n$(s\\) : : -include2 .PHONY \tt \\\r\n \na&b ::   \nX$  := \\#x  y \nelse ifdef Q\n#\0\na: ${c} %.o\n\\\n\t\nX$  := x.o \\\r\n \nX\\\r\n!=  \n", (codes "1:0: -x_9 = x.o c $(a b)\n5:0: X$  := \\#x  y\n11:0: X$  := x.o\n13:0: X !=\n", codes "4:0: a&b:: [0]\n8:0: a: ${c} %.o [0]\n", codes "2: rough\n6: opaque\n")) ∷  -- random-486
    (codes ".RECIPEPREFIX = b\nexport \tdefine \\\n+= \n$(q:;=|) : a&b \tt \\\n \\\n ; ${c}\n\t#c", (codes "1:0: .RECIPEPREFIX = b\n2:0: export define +=\n", codes "4:0: $(q:;=|): a&b t [1]\n", [])) ∷  -- random-487
    (codes "\tdefine :::=foo \r\nb  ${g(}: \\\n  #=\r\n", (codes "1:0: define :::= foo\n", codes "2:0: b ${g(}: [0]\n", [])) ∷  -- random-488
    (codes "}.a\0\n", ([], [], codes "1: opaque\n")) ∷  -- random-489
    (codes "endif\nifneq\n&:\n\t\\\n\nifeq (a,$(b\nX +=\t$(m \\\n n) $\\\r\n \nb::: \\\n  c foo\na&b:\\\n\t\\\r\n${c}:\t-include2 ;  ", (codes "7:2: X += $(m n) $ \n", codes "3:1: &: [1]\n12:2: a&b: ${c}: -include2 [1]\n", codes "1: opaque\n10: rough\nend: conditionals 2\n")) ∷  -- random-490
    (codes " \\\n\nt1 ?= a $(q:;=|)\\\n\n", (codes "3:0: t1 ?= a $(q:;=|)\n", [], [])) ∷  -- random-491
    (codes "a&b: $(a b)\n\t \n>define Q\r\n\ta\\\n>export ifdef::= \r\n\\\n#c \\\n d\r\nifdef A\n\t#c\r\n\t\\\na&b: %.c a&b \\\n$(a b) #c \\\n d\noverride define .RECIPEPREFIX", ([], codes "1:0: a&b: $(a b) [1]\n", codes "3: opaque\n4: opaque\n10: opaque\n11: opaque\nend: conditionals 1\nend: defines 1\n")) ∷  -- random-492
    (codes ".RECIPEPREFIX = -\r\nx.o y: a\nelse\n \\\n\n\tx\r\na: a&b\n\t \n>a \\\n\tb\r\n%.c foo : \\\n  $(a b)\tb %.o # x ; y : z = 1\r\n.RECIPEPREFIX = .\r\n>a \\\n\tb\r\na: : \\\n${c}:  # \r\r\n", (codes "1:0: .RECIPEPREFIX = -\n13:0: .RECIPEPREFIX = .\n", codes "2:0: x.o y: a [0]\n7:0: a: a&b [0]\n11:0: %.c foo: $(a b) b %.o [0]\n", codes "3: opaque\n6: opaque\n9: opaque\n14: opaque\n16: opaque\n")) ∷  -- random-493
    (codes "Y:::=\\\n\t \\\r\n \nexport >q?=$(a b)$(s\\)#\\\\\\\n\n", (codes "1:0: Y :::=\n", [], codes "4: opaque\n")) ∷  -- random-494
    ([], ([], [], [])) ∷  -- random-495
    (codes "a&b \\\r\n $x:-include2 | %.c \r\n-include2:\\\r\nb \n\t: override A :::= \\\n \n${c}: x.o a&b \tt \n\tifdef Z\r\n.RECIPEPREFIX+= \n:b endef\n=\r\ndefine)+:$\n.RECIPEPREFIX =\\\n>\r\nta \\\n\tb\r\neelse", (codes "9:0: .RECIPEPREFIX +=\n13:0: .RECIPEPREFIX = >\n", codes "1:0: a&b $x: -include2 | %.c [0]\n3:0: -include2: b [1]\n7:0: ${c}: x.o a&b t [1]\n10:0: : b endef [0]\n", codes "11: opaque\n12: rough\n15: opaque\n17: opaque\n")) ∷  -- random-496
    (codes ">\n\\\n#\\\\\\\n\n%.c : :.PHONY \\\n%.c| ${g(}\n\n>else\nendif # c\nfoo: \n#\n>a \\\n\tb", ([], codes "10:0: foo: [0]\n", codes "1: opaque\n5: rough\n8: opaque\n9: opaque\n12: opaque\n")) ∷  -- random-497
    (codes ".RECIPEPREFIX = b\n>\ndefine $x &:: a\\\n: \\\n \\\n $(p #) $(a b)\tc #\\\\\\\n\n", (codes "1:0: .RECIPEPREFIX = b\n", [], codes "2: opaque\n3: opaque\n")) ∷  -- random-498
    (codes "\\\n#\\\\\\\n\r\noverride ::=  $x\\\n%.o |#c \\\n d\r\nfoo: x.o\nea\\\\\r\n", (codes "4:0: override ::= $x %.o |\n", codes "7:0: foo: x.o [0]\n", codes "8: opaque\n")) ∷  -- random-499
    ([], ([], [], [])) ∷  -- random-500
    []

answers_10 : map (λ row. let lines = document_lines row.0 in (vars_text None lines, rules_text None lines, check_text lines)) rows_10 ≡ map (λ row. row.1) rows_10
unfolding digits
answers_10 = refl
