-- Edits with their answers. Made by `tests/definitions/edit_rows.py tests/cases/edits/random.tsv`.
use Rattle.std.proofs.Common.{◌≡◌, refl, ℕ, true, false, List, [], ◌∷◌, map, Some, None}
use Rattle.std.specs.Prelude.{codes}
use Rattle.mk_class.specs.declared.assignment.Flavor.TheVariants.{Recursive, Simple, PosixSimple, Immediate, Conditional, Append, Shell}
use Rattle.mk_edit_language.specs.declared.edit.RuleSeparator.TheVariants.{Single, Double}
use Rattle.mk_edit_language.specs.Edits.{Edit, Bottom, BeforeVar, AfterVar, BeforeRule}
use Rattle.mk_edit_language.specs.Edits.{One, NewAssign, NewRule, AddPrereq, RemovePrereq, ByNumber, Last, OfAssign, OfRule, OfRecipe, ChangeValue, ChangePrereqs, AddLine, AddRecipe, SetRecipe, RemoveLines, RenameTarget}
use Rattle.mk_edit_language.specs.Edits as edits
use Rattle.mk_edit_language.specs.declared.refusal.Refusal.TheVariants.{BadArgument, Reserved, RecipePrefix, NoSuch, Ambiguous, Absent, Already, Taken, SharedRule, OpenLine, OpenDefine, Leans}
use Rattle.mk_edit_language.specs.declared.refusal.Field.TheVariants as field
use Rattle.mk_rows.proofs.edits.Outcomes.{outcome, Outcome, Becomes, Refused}

abbrev rows_1 : List (List ℕ × Edit × Outcome)
rows_1 =
    (codes ".RECIPEPREFIX = t\n\tdefine Q\r\nprivate\\\n\\\n-x_9 :=  \r\n%.c  : : %.o x.o a&b\r\n", ChangeValue (One None) (codes ".RECIPEPREFIX") (edits.Set (codes "-include2 .PHONY")), Refused Reserved) ∷  -- random-001
    (codes "endif # c\r\n", AddLine Bottom (NewRule [] Double (codes "%.o")), Refused (BadArgument field.Targets)) ∷  -- random-002
    (codes ".RECIPEPREFIX = -\n\n", ChangeValue (One (Some 1)) (codes ".RECIPEPREFIX") (edits.Append (codes "a ${g(}")), Refused Reserved) ∷  -- random-003
    ([], AddLine Bottom (NewAssign (codes "a.b") Simple []), Becomes (codes "a.b :=\n")) ∷  -- random-004
    (codes ".RECIPEPREFIX = -\nelse ifdef Q\nY = \ndefine  !=  ", ChangeValue (One (Some 0)) (codes ">q") (edits.Set (codes "t")), Refused (BadArgument field.Name)) ∷  -- random-005
    (codes "x.o y: \n>define Q\n\\\n\t\r\n$(u: #\0\r\nendef # c\r\ndefine+=%.c${c} \\# # \r\r\n \\\n\texport  \\#x::= \t\r\n &: \tY :=  \r\na&b a::\\\n\t\\\r\nx.o#c \\\n d\r\n", AddLine (BeforeRule None (codes "a")) (NewAssign (codes "X") Recursive (codes "$$")), Becomes (codes "x.o y: \n>define Q\n\\\n\t\r\n$(u: #\0\r\nendef # c\r\ndefine+=%.c${c} \\# # \r\r\n \\\n\texport  \\#x::= \t\r\n &: \tY :=  \r\nX = $$\na&b a::\\\n\t\\\r\nx.o#c \\\n d\r\n")) ∷  -- random-006
    (codes "$$ &: %.c | .PHONY \t$(f {) \n$x:  | $(q:;=|)\\\n\t\\\r\n\n> \noverride\toverride\\\n\t= a\\  \nendef # c\n", RemoveLines (OfRecipe None (codes "$$") (ByNumber 0)), Refused Absent) ∷  -- random-007
    (codes ">a \\\n\tb\n\tx\nx.o y: -include2\t$(s\\)\n.Z = 1\n\t \na foo  &: %.c  .PHONY  $(a b)|\\\r\n \n>$(\n\tdefine Q\n\ta\\\r\nifdef :=-include2\t1\r\n", ChangeValue (One None) (codes ".Z") (edits.Set (codes "%.o")), Becomes (codes ">a \\\n\tb\n\tx\nx.o y: -include2\t$(s\\)\n.Z = %.o\n\t \na foo  &: %.c  .PHONY  $(a b)|\\\r\n \n>$(\n\tdefine Q\n\ta\\\r\nifdef :=-include2\t1\r\n")) ∷  -- random-008
    (codes "foo : : \\\r\n $$ : -include2\\\n;  #c \\\n d\n\t\\\nfoo\t%.o : A ?= ${u $(w \\\n#\n", AddLine Bottom (NewRule (codes "a") Double []), Becomes (codes "foo : : \\\r\n $$ : -include2\\\n;  #c \\\n d\n\t\\\nfoo\t%.o : A ?= ${u $(w \\\n#\na::\r\n")) ∷  -- random-009
    (codes "endef\\\n\n${g(} $(a b) ::: t  $(q:;=| | \\\n   #c \\\n d\n\t\\\n\n-include2 : $(p #) a&b %.c\n\t\\\n\nelse\nifdef\\\nB\nx.o y: \n #\n>y\r\n", ChangePrereqs None (codes "$(a b)") (RemovePrereq (codes "x.o")), Refused NoSuch) ∷  -- random-010
    (codes "end!f\n$$ :  | \t-include2  b\\\n\\\n\n\t \n Y ::= \n>q:::= \\# $$ \n.PHONY \r\nÃ©:X ::=$(s\\) \\\n  \n$(f {)\\\r\n&: override =$(a b)\\\nx  y #c \\\n d", ChangeValue (One (Some 1)) (codes "Y") (edits.Set (codes "$(f {) c")), Becomes (codes "end!f\n$$ :  | \t-include2  b\\\n\\\n\n\t \n Y ::= $(f {) c\n>q:::= \\# $$ \n.PHONY \r\nÃ©:X ::=$(s\\) \\\n  \n$(f {)\\\r\n&: override =$(a b)\\\nx  y #c \\\n d")) ∷  -- random-011
    (codes "x.o y: %.o\na: \n \n.\n\t \\\\", RenameTarget (codes "x.o") (codes "$$"), Becomes (codes "$$ y: %.o\na: \n \n.\n\t \\\\")) ∷  -- random-012
    (codes "$(p #) | :\t\n\\\n$(q:;=|)  $(s\\)\\\n\\\n\n>echo a # b\nexport >q!= \n${g(}&: a&b  :foo\\\n\tfoo \\\n  \n\tdefine Q\n-x_9 ?=\\ .PHONY#\0\na\\\n\noverride define F \\\n\nifneq\n", AddLine (BeforeVar None (codes ">q")) (NewRule (codes "$(f {)") Double (codes "$$")), Refused (BadArgument field.Place)) ∷  -- random-013
    (codes ".RECIPEPREFIX = c\r\n\t#c\r\n)a>>q\\= \\$xaa&b ", ChangeValue (One None) (codes ".RECIPEPREFIX") (edits.Append (codes "${g(} 2 3")), Refused Reserved) ∷  -- random-014
    (codes ":\r\n\t \n", AddLine Bottom (NewRule (codes "${g(}") Double (codes "$(f {)")), Becomes (codes ":\r\n\t \n${g(}:: $(f {)\r\n")) ∷  -- random-015
    (codes "\\\nendif\n\ty\r\n$(p #) &:\t$$:\t$(f {)|\t$(q:;=|) ${g(}\n\t\\\nifndef X # c\nendif\n\ta\\\r\n>b\ndefine \n", AddLine Bottom (NewRule (codes ".PHONY") Double (codes "c")), Refused OpenDefine) ∷  -- random-016
    (codes ".RECIPEPREFIX = i\\", RemoveLines (OfAssign None (codes ".RECIPEPREFIX")), Refused Reserved) ∷  -- random-017
    (codes ".RECIPEPREFIX\t?=x  y \t\r\nendef x\r\n\\\n\r}&;#$\\\r\na \\\n  b :\t${c}\r\noverride\\\n\tendef = ", ChangeValue (One None) (codes ".RECIPEPREFIX") (edits.Set (codes "x.o")), Refused Reserved) ∷  -- random-018
    (codes "x.o y: \n.t: u\nY :::= c\\ \\\\\\\t#\\\\\\\n\n>a.b := $(w \\\n \\\r\n $(w \\\n\\\n\\\nfoo\\\n\\\n\n\t\\\n$(s\\) : \\\r\n export\\\n\t\\\r\noverride ::=  \n", RemoveLines (OfRule (Some 2) (codes "x.o")), Refused NoSuch) ∷  -- random-019
    (codes "foo: $(p #)\r\n\t#\\\\\\\n\na :X \t::= \r\n\techo a # b\r\n\\\n+::= $x \n # \\\r\n\tifdef Z\r\n X += ", SetRecipe None (codes "foo") (ByNumber 1) (codes "y # z"), Becomes (codes "foo: $(p #)\r\n\ty # z\na :X \t::= \r\n\techo a # b\r\n\\\n+::= $x \n # \\\r\n\tifdef Z\r\n X += ")) ∷  -- random-020
    (codes "Y\\\n\t\\\r\n?= 2 3\\\\ ", RemoveLines (OfAssign None (codes "Y")), Becomes []) ∷  -- random-021
    (codes ".RECIPEPREFIX = >\n\t \nbX);\0}\n:a\nvpath %.c a\n$(f {) : ${g(} \n\t\\\nCC\\\n\t?=\\$x \nt: : \\\nt $$\\\n\t\\\r\n$(f {) \nx.o&: x.o \n.PHONY: %.o | \tx.o x.o ; \ta\0$(q:;=|) \nendif # c\n", RemoveLines (OfAssign None (codes "define")), Refused NoSuch) ∷  -- random-022
    (codes "\tZ = 1\na: \n\t \na.b =\t\0 \n$(f {) ::: $(f {)\\\n\t\\\r\n: a $\t\t${c} \t| # x ; y : z = 1\n", AddLine (BeforeVar None (codes "Z")) (NewAssign (codes "X") Immediate []), Becomes (codes "X :::=\n\tZ = 1\na: \n\t \na.b =\t\0 \n$(f {) ::: $(f {)\\\n\t\\\r\n: a $\t\t${c} \t| # x ; y : z = 1\n")) ∷  -- random-023
    (codes ".RECIPEPREFIX = >\nx.o y: \n>Z = 1\ntZ = 1\n \n$(a b) foo :a&b\nt1 ::=a\n\ty\r\nfoo: \n\tifdef Z\n", RemoveLines (OfRecipe None (codes "foo") (ByNumber 2)), Refused (Ambiguous 2)) ∷  -- random-024
    (codes "b&::a&b \r\n\ta\\\\\r\nt1 ::= $\\\n $$ ; \r\n\\\n\\\n:$\r\nY != ;\\\n\\\n\\\\\\\n\t#\\\\\\\n\r\n", RemoveLines (OfRule None (codes "b")), Becomes (codes "t1 ::= $\\\n $$ ; \r\n\\\n\\\n:$\r\nY != ;\\\n\\\n\\\\\\\n\t#\\\\\\\n\r\n")) ∷  -- random-025
    (codes "\ta\\\\\n${g(}: Y !=\\#\n\t\\>\n\r\n>\n#c\n\tdefine D", AddLine (BeforeRule (Some 1) (codes ".PHONY")) (NewRule [] Double (codes "$x")), Refused (BadArgument field.Targets)) ∷  -- random-026
    ([], AddLine Bottom (NewAssign (codes "define") Simple (codes "${g(}")), Becomes (codes "define := ${g(}\n")) ∷  -- random-027
    (codes "a", AddLine Bottom (NewRule [] Single (codes "${c} ${g(}")), Refused (BadArgument field.Targets)) ∷  -- random-028
    (codes ".RE\rIPEPREFIX = c\r\n\\!ac \\{\n d", AddLine Bottom (NewAssign (codes ">q") Simple []), Refused (BadArgument field.Name)) ∷  -- random-029
    (codes "$(s\\)\tt:\n-include2: -include2 \\\n%.c\\\r\nx.o  |a&b # \r\nifdef\\\n\t:::= aa\\ \\\n\t$x #\n\t$(p #)&: $\\\\\r\n:\tb\t$(q:;=|) foo# c", AddLine Bottom (NewRule (codes "$(q:;=|)") Double (codes "${c} foo")), Becomes (codes "$(s\\)\tt:\n-include2: -include2 \\\n%.c\\\r\nx.o  |a&b # \r\nifdef\\\n\t:::= aa\\ \\\n\t$x #\n\t$(p #)&: $\\\\\r\n:\tb\t$(q:;=|) foo# c\n$(q:;=|):: ${c} foo\n")) ∷  -- random-030
    (codes "endef#c\n", AddLine Bottom (NewAssign (codes "endef") Conditional (codes "$(s\\)")), Becomes (codes "endef#c\nendef ?= $(s\\)\n")) ∷  -- random-031
    (codes "endef:::=\\\r\n\r\n.RECIPEPREFIX =\\x\r\nt1+= \\\\| # c\r\n>\\\n\r\n.RECIPEPREFIX= # c\r\n$(p #) : x.o#\r\ntendif\r\noverride != \r\nfoo \\\r\n $$ : A ::=\tc a\\ ", ChangeValue (One (Some 2)) (codes ".RECIPEPREFIX") (edits.Append (codes "%.o")), Refused Reserved) ∷  -- random-032
    (codes "x.o b::  \\\n  # x ; y : z = 1\n>$$ include:  \nt &::t \t$x\t%.o\\\r\n\nexport \tY\t!= $ a\\:b\\\r\n1\na: \nifneq\n\tendef", ChangePrereqs None (codes "include") (AddPrereq true (codes "foo")), Refused Reserved) ∷  -- random-033
    (codes "private\n-x_9:= \\\r\n\n\\\nendef x\noverride :=  \n", AddLine (BeforeVar (Some 2) (codes "-x_9")) (NewAssign (codes "Y") Append []), Refused NoSuch) ∷  -- random-034
    (codes "\t}\r\n\\\n.RECIPEPREFIX =X", AddLine (AfterVar None (codes ".RECIPEPREFIX")) (NewRule (codes "$$") Single []), Refused Reserved) ∷  -- random-035
    (codes " \\\n\td|&:$(q:;=|)\n\\\n#c \\\n d\n\tendef\n\tifdef Z\nelse ifdef Q\na\\=\\\n\t?=\\\na\\:b \n", AddLine Bottom (NewRule (codes "-include2") Double (codes "$(p #) $(a b)")), Becomes (codes " \\\n\td|&:$(q:;=|)\n\\\n#c \\\n d\n\tendef\n\tifdef Z\nelse ifdef Q\na\\=\\\n\t?=\\\na\\:b \n-include2:: $(p #) $(a b)\n")) ∷  -- random-036
    (codes "export X\na&b : : \\\n  \nX$:  = : \n\t${g(}&: t \t: c $(q:;=|)\te$#f #\\\\\n$\\\\\n\n\\\\\n!\\b$$endef\n(\n$(f {): ; \\\n\\#\n\ty\r\nendef x\n \\\n\t${g(}:: \\\n\t\\\r\n", SetRecipe None (codes "$(f {)") (ByNumber 1) (codes " a"), Becomes (codes "export X\na&b : : \\\n  \nX$:  = : \n\t${g(}&: t \t: c $(q:;=|)\te$#f #\\\\\n$\\\\\n\n\\\\\n!\\b$$endef\n(\n$(f {): ; \\\n\\#\n\t a\r\nendef x\n \\\n\t${g(}:: \\\n\t\\\r\n")) ∷  -- random-037
    ([], AddLine Bottom (NewRule (codes "b") Single (codes "b")), Becomes (codes "b: b\n")) ∷  -- random-038
    (codes ".RECIPEPREFIX = b\r\noverride ?= $# $# \na\\\n: \t$(f {) |  #\0\n$(a b)\\\r\na&b:: \\\n \\\n a&b x.o $(f {)\r\n${g(}\\\r\na: $(p #) : $(p #) \\\n#c \\\n d\n\t\\\nelse ifdef Q\r\nexport privat\re define F \\\n\n", AddRecipe None (codes "${g(}") Last (codes "cÿ"), Becomes (codes ".RECIPEPREFIX = b\r\noverride ?= $# $# \na\\\n: \t$(f {) |  #\0\n$(a b)\\\r\na&b:: \\\n \\\n a&b x.o $(f {)\r\n${g(}\\\r\na: $(p #) : $(p #) \\\n#c \\\n d\nbcÿ\r\n\t\\\nelse ifdef Q\r\nexport privat\re define F \\\n\n")) ∷  -- random-039
    (codes ".RECIPEPREFIX = f\n$(f {) ::  \\\r\n \r\n$(f {)&:: ${g(}\\\n\t\\\r\n.PHONY ; $$ 1\t\0 \n${g(} : ifdef:=a\\  #\0\na: %.o t\nx.o y: \nty\r\r\n\t#", RenameTarget (codes "${c}") (codes "%.c"), Refused NoSuch) ∷  -- random-040
    (codes ".RECIPEPREFIX = X\n", RemoveLines (OfAssign None (codes ".RECIPEPREFIX")), Refused Reserved) ∷  -- random-041
    (codes ".RECIPEPREFIX = x\n", AddLine Bottom (NewAssign (codes "define") Conditional []), Becomes (codes ".RECIPEPREFIX = x\ndefine ?=\n")) ∷  -- random-042
    (codes "\t\\\nY := ${g(}\\\n\r\n \\-include2: \\\n  $(p #) a&b ${c} # x ; y : z = 1\r\na&b &: $(q:;=|) \t:\\\n\t${c} -include2 $x; .PHONY a\\ \t\r\na&b&: \r\n\\\\\n\t(+\n\\\\\n\\\n\\\\\n#$}\0\r\nb : -incle2\tx.o \\\n  \n\t \n\t \r\na: \n.\r\na: \n.ifdef Z\n\ta\\\n\t", RemoveLines (OfRecipe (Some 4294967295) (codes "a") (ByNumber 0)), Refused NoSuch) ∷  -- random-043
    (codes "\t \noverride::=  \t# \\\r\n$(s\\) &: %.c \tx.o\t$(a b) \n>endef\r\nendef +=\\\n\t: \n-include2 &:-include2 \t:$(q:;=|) ${c} \\\n ;\\\n\\\n$(a b)\\\n\t\n# c\n", AddLine (AfterVar None (codes "endef")) (NewAssign (codes "override") PosixSimple (codes ": a")), Becomes (codes "\t \noverride::=  \t# \\\r\n$(s\\) &: %.c \tx.o\t$(a b) \n>endef\r\nendef +=\\\n\t: \noverride ::= : a\n-include2 &:-include2 \t:$(q:;=|) ${c} \\\n ;\\\n\\\n$(a b)\\\n\t\n# c\n")) ∷  -- random-044
    (codes "a: ${g(}\nendif\nCC += 1\\\r\n\n", ChangeValue (One None) (codes "CC") (edits.Set (codes "a ${c}")), Becomes (codes "a: ${g(}\nendif\nCC += a ${c}\\\r\n\n")) ∷  -- random-045
    (codes ".RECIPEPREFIX = >\r\nx.o &:   ; a\\:b \r\nea\\\r\ntendif\r\nex\r\nfoo: b\r\n\r\n\t\\\n\r\na&b &: $(a b) b | ${c} ${g(} \r\nifeq (a,$(b\r\n", ChangeValue (One None) (codes ".RECIPEPREFIX") (edits.Append (codes "\\#")), Refused Reserved) ∷  -- random-046
    ([], AddLine Bottom (NewAssign (codes "X") Conditional (codes "%.c")), Becomes (codes "X ?= %.c\n")) ∷  -- random-047
    (codes "\tifdef A\na!|", AddLine Bottom (NewAssign (codes "A") Append (codes "%.o")), Becomes (codes "\tifdef A\na!|\nA += %.o\n")) ∷  -- random-048
    (codes "\tx\r\n :: $(X)\\ \\\n:= \\\n${g(}$\\\n  \\# \r\n$x : \\# :$(a b) \r\na: ${g(}\t$(q:;=|) \n\t\\\nA := cx  y# x ; y : z = 1\r\\\n>q  ?=x.o \nfoo: .PHONY $(s\\)\n # \\\naa", AddRecipe None (codes "foo") Last (codes "t"), Becomes (codes "\tx\r\n :: $(X)\\ \\\n:= \\\n${g(}$\\\n  \\# \r\n$x : \\# :$(a b) \r\na: ${g(}\t$(q:;=|) \n\t\\\nA := cx  y# x ; y : z = 1\r\\\n>q  ?=x.o \nfoo: .PHONY $(s\\)\n\tt\r\n # \\\naa")) ∷  -- random-049
    (codes "a: b\ntZ = 1\r\n\r endef\\ $>b$\t\r\n\\\n>q :::= \\\nx.o %.o\\\n$(f {)# \r\nendif\neelse\nfoo: \n\\\n\t\neendif\nx.o y: $(f {)\n\\\n#\n \n", AddLine Bottom (NewAssign (codes "X") Append (codes ";")), Becomes (codes "a: b\ntZ = 1\r\n\r endef\\ $>b$\t\r\n\\\n>q :::= \\\nx.o %.o\\\n$(f {)# \r\nendif\neelse\nfoo: \n\\\n\t\neendif\nx.o y: $(f {)\n\\\n#\n \nX += ;\n")) ∷  -- random-050
    []

answers_1 : map (λ row. outcome row.0 row.1) rows_1 ≡ map (λ row. row.2) rows_1
answers_1 = refl

abbrev rows_2 : List (List ℕ × Edit × Outcome)
rows_2 =
    (codes "en(ef\\\n\nA ?= $\\\r\n \n\ta\\\\\n.RECIPEPREFIX:::= >>\n.PHO\\\nNY: %.c ${c} $x#\0\n\\\nfoo: -include2\\\r\n$(a b) b ; a\\:bx.o", RenameTarget (codes "b") (codes "foo"), Refused RecipePrefix) ∷  -- random-051
    (codes "foo: $(a b) \tc\n>\\\n\n.$(\noverride define X =\nifdef A\nelse\neZ = 1\nendef#c\n", AddLine Bottom (NewAssign (codes ">q") Conditional (codes "=")), Refused (BadArgument field.Name)) ∷  -- random-052
    (codes " define D\noverride  t1\\\n::=a\\:b b\\\\ \n=(\nelse ifdef Q\n\tifdef Z\n.RECIPEPREFIX  !=  ; c\n", AddLine Bottom (NewAssign (codes "endef") Recursive (codes "-include2 $x")), Refused OpenDefine) ∷  -- random-053
    (codes "foo: \n\t\nendef\r\nx.o y: $(a b)\t$$\na\\\n", RenameTarget (codes "a") (codes "e$#f"), Refused NoSuch) ∷  -- random-054
    (codes "export .RECIPEPREFIX :::=\\\nÃ\r\n ifdef\\\nB\r\n.RECIPEPREFIX :=a\r\n+}\r\n=|a\r\n\\=\r\n#=(\r\n :: override override\\\nendef  +=  \r\n%.:\\\r\n#\\\\\\\n\r\n X \\\\\n=X=$\r\n \\\n", RemoveLines (OfAssign None (codes ".RECIPEPREFIX")), Refused Reserved) ∷  -- random-055
    (codes ".RECIPEPREFIX = X\nc : $(f {)\t${c} .PHONY| \tc ${c} # \\\n\ty\r\n\ta \\\n\tb\r\n", ChangeValue (One None) (codes ".RECIPEPREFIX") (edits.Set (codes "|")), Refused Reserved) ∷  -- random-056
    (codes "foo: t .PHONY\n\tendef", AddRecipe None (codes "foo") Last (codes "e f \\ g"), Becomes (codes "foo: t .PHONY\n\tendef\n\te f \\ g\n")) ∷  -- random-057
    (codes ">$x :\t\\\n\\\n| ; \t;\nelse ifdef Q\r\n-include b c\r\na=\r\nendef\r\n${c}: \\\n  .PHONY|  \r\n", AddLine (BeforeRule None (codes ">$x")) (NewRule (codes "x.o .PHONY") Double (codes "$(s\\)")), Becomes (codes "x.o .PHONY:: $(s\\)\n>$x :\t\\\n\\\n| ; \t;\nelse ifdef Q\r\n-include b c\r\na=\r\nendef\r\n${c}: \\\n  .PHONY|  \r\n")) ∷  -- random-058
    ([], RemoveLines (OfAssign None (codes "override")), Refused NoSuch) ∷  -- random-059
    (codes "\\\n:\tendef:= \\\r\n \n", AddRecipe None (codes "foo") Last (codes "x"), Refused NoSuch) ∷  -- random-060
    (codes " Y?= $(q:;=|)\\\n\nt1 ::= \\\na\\ $\\\r\n\\ \\\nb # x ; y : z = 1\noverride .RECIPEPREFIX::=$x", AddLine (BeforeVar None (codes ".RECIPEPREFIX")) (NewRule (codes "t -include2") Double (codes "$(s\\) a\\ b")), Refused (BadArgument field.Prereqs)) ∷  -- random-061
    ([], AddLine Bottom (NewAssign (codes "define") Shell (codes ";")), Becomes (codes "define != ;\n")) ∷  -- random-062
    (codes "endif\r\n=$\ndefine\r\nendef # c\r\n", AddLine Bottom (NewAssign (codes ">q") Recursive []), Refused (BadArgument field.Name)) ∷  -- random-063
    (codes " \\\n\tc $(a b) \\\n  &: endef ::= %.c $\\\r\n\t\\\\\\ \r\n>%.c: %.c: a&b  c\\\n\\\n\r\n\tZ = 1\r\n!&}\\\nb\r\n\r\n\t: override := \0 \\\n \\\n \r\n", RenameTarget (codes ">%.c") (codes "b"), Becomes (codes " \\\n\tc $(a b) \\\n  &: endef ::= %.c $\\\r\n\t\\\\\\ \r\nb: %.c: a&b  c\\\n\\\n\r\n\tZ = 1\r\n!&}\\\nb\r\n\r\n\t: override := \0 \\\n \\\n \r\n")) ∷  -- random-064
    (codes "Y :=   \r\n${g(} : :$x  \r\n", AddLine Bottom (NewAssign (codes "endef") Shell (codes "a\\:b")), Becomes (codes "Y :=   \r\n${g(} : :$x  \r\nendef != a\\:b\r\n")) ∷  -- random-065
    (codes "-include2 &::$(q:;=|)  $(q:;=|) \r\n\n\t#c\nexport define += \\$x $(m \\\n n) # \\\r\n>x.o\\\n\t &:  \t\r\nCC !=\\\na \\\n \\\n \r\nprivate Y ?= $$ \r\na &:: | $(q:;=|)  $x #\0\r\n", ChangeValue (One None) (codes "define") (edits.Set (codes "$(a b)")), Becomes (codes "-include2 &::$(q:;=|)  $(q:;=|) \r\n\n\t#c\nexport define += $(a b) # \\\r\n>x.o\\\n\t &:  \t\r\nCC !=\\\na \\\n \\\n \r\nprivate Y ?= $$ \r\na &:: | $(q:;=|)  $x #\0\r\n")) ∷  -- random-066
    (codes "b  &:\t  | \\\n \nifdef\\\nB\n$(a b)\\\n\t\\\r\n: .PHONY |  c \t%.o \r\nifdef\\\nB\r\n\t# x ; y : z = 1\r\n#b;$\r\n+&define\t\\\n\r\n\t\n", SetRecipe None (codes "b") (ByNumber 4294967295) (codes "t"), Refused Absent) ∷  -- random-067
    ([], AddLine Bottom (NewRule (codes "$(p #)") Double (codes "a&b")), Becomes (codes "$(p #):: a&b\n")) ∷  -- random-068
    (codes "x.o y: ${c} \t$(f {)\n\t \n\telse\r\n${g(} &: $(s\\) $(a b) \\\n$(p #)\n# x ; y : z = 1\r\nendef:= \\$x\r\n\\\n# x ; y : z = 1\r\n#\\\\\r\nendef ::=%.c\\\r\nx  y\r\n\\\n%.o &:\\\n\\\nX$: !=\t${c}\\$x #\r\nfoo: \n>echo a # b", SetRecipe (Some 4294967295) (codes "y") (ByNumber 1) (codes "x"), Refused NoSuch) ∷  -- random-069
    (codes ".RECIPEPREFIX = Y\noverride X\nendif\ndefine X =\nea\\\\\nendif # c\na .PHONY &: \t\n\tZ = 1\n\ta\\=\\\n!= $$ \nendif\n", ChangeValue (One (Some 4294967295)) (codes ".RECIPEPREFIX") (edits.Set (codes "$(p #) t")), Refused Reserved) ∷  -- random-070
    (codes "Y!::=  \r\n", RemoveLines (OfAssign None (codes "Y!")), Refused (BadArgument field.Name)) ∷  -- random-071
    (codes ".RECIPEPREFIX = >\n%.o : #\\\\\n\\\n# x ; y : z = 1\nfoo: \n\\\n|&define\n\r\\\n(\\\t\0:\\endef:", ChangeValue (One (Some 4294967295)) (codes "X$:") (edits.Set (codes "a")), Refused (BadArgument field.Name)) ∷  -- random-072
    (codes ".RECIPEPREFIX = x\r\n\\ \\}\r\nt \t.PHONY: t \t.PHONY\\\n\r\n>$$ $(q:;=|) : $$ t \r\n# c\r\nendef # c\r\ne\r\n\ty\r\r\nX$  := \t$\\\n \r\n\tZ = 1\r\n", AddRecipe None (codes "$(q:;=|)") Last (codes "y # z"), Becomes (codes ".RECIPEPREFIX = x\r\n\\ \\}\r\nt \t.PHONY: t \t.PHONY\\\n\r\n>$$ $(q:;=|) : $$ t \r\nxy # z\r\n# c\r\nendef # c\r\ne\r\n\ty\r\r\nX$  := \t$\\\n \r\n\tZ = 1\r\n")) ∷  -- random-073
    (codes "c:\\\n\\\n \n\tendef\nX :::= \\\n   \r\n$(f {):: export \tprivate \tX:== \\\n#\0\r\n$(f {) ${g(}: : $(s\\) \\\r\n :\\\r\n # \\\r\na.b \t:::= # \r\r\n#\0\r\nfoo: \r\n\\\n\t\r\noverride\\\n>q ::= $\\\n$(m \\\n n) \r\n.RECIPEPREFIX = >", AddLine (AfterVar (Some 1) (codes ".RECIPEPREFIX")) (NewAssign (codes "a.b") Conditional (codes "\\$x")), Refused Reserved) ∷  -- random-074
    (codes ".RECIPEPREFIX = $$\n\t-x_9 :::=\\\n\t \n\ta \\\n\tb\n${g(} :  $x -include2 \n%.o: $$ \\\r\n \n", AddRecipe None (codes "${g(}") Last (codes "define"), Refused RecipePrefix) ∷  -- random-075
    (codes ">a\\\na: $(p #) \ta&b\n.#c\n #\\\\\n-x_9 != $\\\n$\\\n $  \t\n", ChangePrereqs None (codes "a") (AddPrereq true (codes "$(s\\)")), Becomes (codes ">a\\\na: $(p #) \ta&b | $(s\\)\n.#c\n #\\\\\n-x_9 != $\\\n$\\\n $  \t\n")) ∷  -- random-076
    (codes "\t\\\noverride undefine X\n \\\n", AddLine Bottom (NewAssign (codes ">q") Immediate (codes "-include2")), Refused (BadArgument field.Name)) ∷  -- random-077
    (codes "export CC:= \t$(w \\\n\\\n\\\n\nendef x\nt1 \\\n \\\n ::= \n  : Y! \t!= \n", AddLine Bottom (NewRule (codes "$x") Double (codes "$(a b)")), Becomes (codes "export CC:= \t$(w \\\n\\\n\\\n\nendef x\nt1 \\\n \\\n ::= \n  : Y! \t!= \n$x:: $(a b)\n")) ∷  -- random-078
    (codes "\\", AddLine Bottom (NewAssign (codes "X") Shell (codes "b")), Refused OpenLine) ∷  -- random-079
    (codes ".RECIPEPREFIX = $$\r\n\t\r\nt1 ::= ${c} $x\r\na.b\t?= x  y a\\ \\ \\\n.PHONY \t\r\n\r\n\r\n", AddLine Bottom (NewRule [] Single (codes "a")), Refused (BadArgument field.Targets)) ∷  -- random-080
    ([], AddLine Bottom (NewRule (codes "b") Double (codes "\\ -include2")), Refused (BadArgument field.Prereqs)) ∷  -- random-081
    (codes "a::: a&b $(f {) #\\\\\\\n\n>ifdef Z\r\n%.c\\\n%.c : a&b\\\r\n$(p #) \tb |\\\n\t%.o\n>#c\n.RECIPEPREFIX !=  \n\ta\\\r\n>b\n>q+=$(a b)\\\n\t\r\n.RECIPEPREFIX=>\nc : : x.o : |\\\n\t\\\r\n$(a b) \n>endef\n\t\\\n\n\t$(\r\n\t$(p #)&:t : -include2 # c\r\n\telse\r\n\tendif\n", ChangeValue (One None) (codes ">q") (edits.Set (codes "${c}")), Refused (BadArgument field.Name)) ∷  -- random-082
    (codes "x.o y: $(a b) $(q:;=|)\n\r\n$(f {) ${g(}:  ; \r\nendif\r\noo &: \r\n$(f {)&:: \t \r\n\t\\\nt1\\\n\t!= x.o ", AddLine (BeforeRule None (codes "${g(}")) (NewRule (codes "$(a b) $(f {)") Double []), Becomes (codes "x.o y: $(a b) $(q:;=|)\n\r\n$(a b) $(f {)::\n$(f {) ${g(}:  ; \r\nendif\r\noo &: \r\n$(f {)&:: \t \r\n\t\\\nt1\\\n\t!= x.o ")) ∷  -- random-083
    (codes "define F \\\n\r\ndefine :::=\\ \\\n$\\\r\n #\n$$::: b# x ; y : z = 1\r\n\t$(\r\n\t\\\nendif\n$#X\\\\\n+$\r$\r!\r\neifdef Z\r\n.RECIPEPREFIX =>>\r\n\tendif", AddLine Bottom (NewRule (codes "foo a") Single (codes "$(p #) $x")), Refused OpenDefine) ∷  -- random-084
    (codes ".RECIPEPREFI= .\n$", ChangeValue (One None) (codes ".RECIPEPREFI") (edits.Append (codes "a\\:b")), Becomes (codes ".RECIPEPREFI= . a\\:b\n$")) ∷  -- random-085
    (codes "${g(} &: %.c\t$(p #) $(a b)# c\r\n\techo a # b\r\n\\\n\t\r\ndefine .RECIPEPREFIX\r\noverride !$=  \\\n \\\n\r\n$=: :\\\n\t\\\r\nc\r\n-_9  :=", AddLine Bottom (NewAssign (codes "e") Immediate (codes "%.o")), Refused RecipePrefix) ∷  -- random-086
    (codes "c : Y?= $(s\\) \n>Z = 1\n\t\\\n", AddLine (AfterVar (Some 1) (codes ">Z")) (NewRule (codes ".PHONY") Double (codes "$(p #)")), Refused (BadArgument field.Place)) ∷  -- random-087
    ([], ChangeValue (One None) (codes "a.b") (edits.Set []), Refused NoSuch) ∷  -- random-088
    (codes "$$  .PHONY:: >q= \\\n\r\n \\\n\r\n.PHONY: ${g(} : |\\\n\t\\\r\na\r\nfoo: ${c}\n.#c\nexport\toverride\t= \n\tendef\r\n\t#c\r\n.PHONY \\\r\n :\\\n\tdefine =  \r\n#\\\\\r\naZ = 1\r\n", RemoveLines (OfRecipe None (codes ".PHONY") (ByNumber 4294967295)), Refused Absent) ∷  -- random-089
    (codes "%.c:  c\t| # c\r\n\t\\\nendef:!define\\\\\nb\r\n :: \t>q\\\n\\\n::= \\\n#\\\\\r\n\\\n:\\\\\n&!=\0\n(\r\n$(q:;=|) ::: $(p #) \t# c\r\nt:: t \r\n-include b c\r\nc: \\\n \\\n ${c}\tc \\\n \\\n -include2  ", RemoveLines (OfRule None (codes "t")), Becomes (codes "%.c:  c\t| # c\r\n\t\\\nendef:!define\\\\\nb\r\n :: \t>q\\\n\\\n::= \\\n#\\\\\r\n\\\n:\\\\\n&!=\0\n(\r\n$(q:;=|) ::: $(p #) \t# c\r\n-include b c\r\nc: \\\n \\\n ${c}\tc \\\n \\\n -include2  ")) ∷  -- random-090
    ([], AddLine Bottom (NewAssign (codes ">q") PosixSimple (codes "$(p #)")), Refused (BadArgument field.Name)) ∷  -- random-091
    ([], AddLine Bottom (NewRule (codes "$(a b)") Double []), Becomes (codes "$(a b)::\n")) ∷  -- random-092
    (codes "endef:= a\\:b %.c \n%.o&:: $$ \t${g(} \\\r\n %.c \n\n \\\n\n\techo a # b\r\nelse ifdef Q\r\n\t\\\n\\>!!\\\\\n):?\\\ne$#f : \r\n>foo :::a\t$(a b)|$x\\\n# c\nexport \\\noverride \t!=a\\:b # x ; y : z = 1", RemoveLines (OfRecipe None (codes "%.o") (ByNumber 0)), Refused Absent) ∷  -- random-093
    (codes "endif\r\nexport export \t-x_9+= a&b \\\n \\\n $\\\n\\\n\tc\r\n%.c::: \\\n   ;  # \\\r\nfoo $(p #): $(a b) \\\n \\\n ; $x$(s\\)\t\r\n", RenameTarget (codes "$(a b)") (codes "$(f {)"), Refused NoSuch) ∷  -- random-094
    (codes "${g(}::\tb \\\n$$  t |\t\r\n${g(} : -include2 b\tfoo ;$( # c\r\nt1 ?= t  2 3 # \\\r\nprivate\tX= a\\:b \r\n\ty\r\r\nA \\\n  = #\\\\\\\n\r\noverride ?= \\\nt  a\\:b \\\n", AddRecipe None (codes "${g(}") Last (codes "y # z"), Refused (Ambiguous 2)) ∷  -- random-095
    (codes "foo \t:\nifdef\\\nB\noverride  define  !=t a# \r\nendef # c\n>CC!=a c\n", SetRecipe None (codes "foo") (ByNumber 2) (codes "$("), Refused Absent) ∷  -- random-096
    (codes "else ifdef Q\r\nexport private define F \\\n\r\n\t\\\nendef\\\r\n?= \\\\\\ \r\nendif # c\nendif\n\t ", AddLine Bottom (NewRule (codes "$(f {)") Double []), Refused OpenDefine) ∷  -- random-097
    (codes "%.o &: t\\\n\t$;$ ${c}\nelse\n\t\\|\nfo:::\nt1?=\n", AddLine (AfterVar None (codes "t1")) (NewAssign (codes "t") Immediate []), Becomes (codes "%.o &: t\\\n\t$;$ ${c}\nelse\n\t\\|\nfo:::\nt1?=\nt :::=\n")) ∷  -- random-098
    (codes "a :\\\n\t\\\r\n$(s\\)#\0\r\t\\\n\n\t$(\r\nendef\r\n.PHONY : $(a b) : \\\r\n   \r\na: \n \r\n.RECIPEPREFIX := \r\n\tendef\r\n", RemoveLines (OfAssign None (codes ".RECIPEPREFIX")), Refused Reserved) ∷  -- random-099
    (codes "\n\ta\\\nende", SetRecipe None (codes "define") (ByNumber 1) (codes "\\\\"), Refused (BadArgument field.Line)) ∷  -- random-100
    []

answers_2 : map (λ row. outcome row.0 row.1) rows_2 ≡ map (λ row. row.2) rows_2
answers_2 = refl

abbrev rows_3 : List (List ℕ × Edit × Outcome)
rows_3 =
    (codes ".RECIPEPREFIX = d\n>a\\\\", RemoveLines (OfAssign (Some 4294967295) (codes ".RECIPEPREFIX")), Refused Reserved) ∷  -- random-101
    (codes "\tdefine Q\n>Z = 1\r\nexport endef\\\n\t!=\\\r\n$(a b) x.o\t$( #\\\\\nx.o y: ${c}\\\n\t\\\r\nc\nendif\n>$(\n\t \nundefine X\nendif\nX$  = : #c \\\n d\r\n", AddLine Bottom (NewAssign (codes "A") Append []), Refused OpenDefine) ∷  -- random-102
    (codes "-include2\t::  |   # \\\n-include2\t: %.c \n", RenameTarget (codes "-include2") (codes "$(f {)"), Becomes (codes "$(f {)\t::  |   # \\\n-include2\t: %.c \n")) ∷  -- random-103
    (codes "endef x\r\nendef\\\n\r\n foo t: a $(q:;=|) \n\\\n\t\n\tendef\r\n\tendif\r\n\telse\r\n\tt: u\r\n\tt: u\r\nload x\r\nx.o  $(q:;=|) : $| ${g(}; |", ChangePrereqs None (codes "$(q:;=|)") (RemovePrereq (codes "${g(}")), Becomes (codes "endef x\r\nendef\\\n\r\n foo t: a $(q:;=|) \n\\\n\t\n\tendef\r\n\tendif\r\n\telse\r\n\tt: u\r\n\tt: u\r\nload x\r\nx.o  $(q:;=|) : $|; |")) ∷  -- random-104
    (codes ".RECIPEPREFIX = >\n.x\nc \\\nt : $(f {) :  $(s\\)\nifdef += : \\\\\nt1 :::= #c \\\n d\n>override -x_9:::=  .PHONY \n\t\\\n: private \toverride ::= $$ \n$$ &::c  %.c\t.PHONY", ChangePrereqs None (codes "c") (RemovePrereq (codes "$(s\\)")), Becomes (codes ".RECIPEPREFIX = >\n.x\nc \\\nt : $(f {) :\nifdef += : \\\\\nt1 :::= #c \\\n d\n>override -x_9:::=  .PHONY \n\t\\\n: private \toverride ::= $$ \n$$ &::c  %.c\t.PHONY")) ∷  -- random-105
    (codes ".RECIPEPREFIX = X\n\\\n#\r\n$x:e$#f \r\n-x_9!= \\ 2 3 \r\n\t#c \\\n d\nifneq\n", ChangePrereqs None (codes "$x") (AddPrereq false (codes "${c}")), Becomes (codes ".RECIPEPREFIX = X\n\\\n#\r\n$x:e$#f ${c} \r\n-x_9!= \\ 2 3 \r\n\t#c \\\n d\nifneq\n")) ∷  -- random-106
    (codes "b: t\n\tx\n%.o &:\\\r\nfoo # \r\ntifdef Z\n\\\n\nX$\\$ >}:>(\n\nt %.c: $$ \\\n  $x \n>\\\n\n\n.RECIPEPREFIX :::=\\\n", ChangePrereqs (Some 1) (codes "t") (AddPrereq true (codes "b")), Refused RecipePrefix) ∷  -- random-107
    (codes "\ta\\\r\n>b\r\n-include2: \\\nt: \t$(q:;=|) $x\n\n-include2&:: \\\r\n c  \r\n", ChangePrereqs (Some 1) (codes "-include2") (RemovePrereq (codes "$x")), Becomes (codes "\ta\\\r\n>b\r\n-include2: \\\nt: \t$(q:;=|)\n\n-include2&:: \\\r\n c  \r\n")) ∷  -- random-108
    (codes ".RECIPEPREFIX = .\r\n\t \r\naelse\r\nedefine Q\r\na&b\\\na&b: :\t%.c \t%.c \\\n \\\n # c\r\ndefine E # c\r\nX =$  \r\na: \n\t\n\ty\r\r\nexport \tX:::=   # x ; y : z = 1\r\n", AddLine Bottom (NewRule (codes "t $x") Single []), Refused OpenDefine) ∷  -- random-109
    (codes "\r\n \\\n\tfoo&: -include2 \t$x|  # \\\n\t\\\ndefine\\\\\n|&$\0\n=\na: .PHONY\nelse ifdef Q\nelse ifdef Q\n$(f {) :-include2 \\\n \\\n :\\\n\t$=\t$(s\\)\t|  ; : %.o \\\\ #c \\\n d\r\noverride += a&b  $(f {) \r\n\\\n\t\n", RemoveLines (OfRule (Some 1) (codes "$(a b)")), Refused NoSuch) ∷  -- random-110
    (codes "\\#x += $(a b)# \\\r\noverride\\\r\nY! != # x ; y : z = 1\r\ndefine !=2 3 \\\n \\\n |\\# #\r\n", RemoveLines (OfAssign None (codes "define")), Becomes (codes "\\#x += $(a b)# \\\r\noverride\\\r\nY! != # x ; y : z = 1\r\n")) ∷  -- random-111
    (codes "\t\nt \t\t.o&: override \t:= c\n.t: u\n \\\n\nexport\to-$a b)!=\\\r\n \n==\n", AddRecipe None (codes "${g(}") Last (codes "x"), Refused NoSuch) ∷  -- random-112
    (codes ".PHONY $x:$(s\\)\t$x \t-include2 |foo \n\nx.o y: \n \\\n\n\\#x!= $\\\n  #\\\\", AddLine (BeforeVar (Some 0) (codes "\\#x")) (NewRule (codes "x.o $x") Double (codes "$x")), Refused (BadArgument field.Place)) ∷  -- random-113
    (codes "$$ \telse :\\\nA+=$(a b)c \r #\\\\\ninclude a\n-x_9 ::= \nA ::=  #\0\n\tendef\n\\\n#\\\\\\\n\na :\\\n\\\n.PHONY \n.PHONY ::\\\n\t\\\r\na&b : | $$ a\n\t#c\n\techo a # b", RemoveLines (OfAssign None (codes "-x_9")), Becomes (codes "$$ \telse :\\\nA+=$(a b)c \r #\\\\\ninclude a\nA ::=  #\0\n\tendef\n\\\n#\\\\\\\n\na :\\\n\\\n.PHONY \n.PHONY ::\\\n\t\\\r\na&b : | $$ a\n\t#c\n\techo a # b")) ∷  -- random-114
    (codes "%.c : %.o :\t$$ \r\na&b&:: $(fdefine {) $(s\\)\t%.o \r\na.b\t+= = -include2 \\\r\n $#\\\n\t\\\r\n# c\n${g(} \\\n \\\n  &: \\\n%.o|Ã© $(p #) \n>a\r\n>b\n>endef\r\n$(p #) :: \\\n   \n#;\n\r\n\n#$\r\n", ChangePrereqs (Some 1) (codes "a&b") (RemovePrereq (codes "$(fdefine {)")), Becomes (codes "%.c : %.o :\t$$ \r\na&b&:: $(s\\)\t%.o \r\na.b\t+= = -include2 \\\r\n $#\\\n\t\\\r\n# c\n${g(} \\\n \\\n  &: \\\n%.o|Ã© $(p #) \n>a\r\n>b\n>endef\r\n$(p #) :: \\\n   \n#;\n\r\n\n#$\r\n")) ∷  -- random-115
    (codes " \\\n\texport export  override :::= c# x ; y : z = 1\n.RECIPEPREFIX=\\\na\nendef\\\r\n+== \t#\\\\", AddLine (AfterVar None (codes "endef")) (NewRule [] Single (codes "$(f {) .PHONY")), Refused (BadArgument field.Targets)) ∷  -- random-116
    ([], AddLine Bottom (NewAssign (codes "A") Append (codes "${c} ${g(}")), Becomes (codes "A += ${c} ${g(}\n")) ∷  -- random-117
    (codes ">define Q\nta \\\n\tb\ndefine ::= $$  \n", AddLine Bottom (NewRule [] Double []), Refused (BadArgument field.Targets)) ∷  -- random-118
    (codes ".RECIPEPREFIX = b\nx.o&:: #\\\\\\\n\n\ta\\\n\\\n\t\nendif # c\n$(X) +=\\\n\\\n\0\na: .PHONY ${g(}\n\tendef\n>a \\\n\tb\nunexport Y\n>Z = 1\n a&b -include2 \\\r\n ::${c} \n-include2 &:$(q:;=|):%.o $x |; \r \n &: override :=a&b\t\n-include2: \\\r\n a&b ", ChangePrereqs (Some 1) (codes "-include2") (AddPrereq false (codes "b")), Becomes (codes ".RECIPEPREFIX = b\nx.o&:: #\\\\\\\n\n\ta\\\n\\\n\t\nendif # c\n$(X) +=\\\n\\\n\0\na: .PHONY ${g(}\n\tendef\n>a \\\n\tb\nunexport Y\n>Z = 1\n a&b -include2 \\\r\n ::${c} b \n-include2 &:$(q:;=|):%.o $x |; \r \n &: override :=a&b\t\n-include2: \\\r\n a&b ")) ∷  -- random-119
    (codes "${g(} $(q:;=|) &:%.o \tb|$x\ta \nX&&|=?\\\n!\n\r\n\n \\\n\n$(p #)::: \n\na: \n\nelse ifdef Q\n\\\n+\n%.c:\n", AddLine Bottom (NewRule (codes "c") Double (codes "foo")), Becomes (codes "${g(} $(q:;=|) &:%.o \tb|$x\ta \nX&&|=?\\\n!\n\r\n\n \\\n\n$(p #)::: \n\na: \n\nelse ifdef Q\n\\\n+\n%.c:\nc:: foo\n")) ∷  -- random-120
    (codes " #c \\\n d\r\n\nelse ifdef Q\ndefine !=\t$ \n>CC+= \t\r\noverride= \t\t#\\\\\\\n\r\na&b :  b :$; $(p #)\\\n\t\\\r\n\na: c  $(q:;=|)\nt#c\nt1 = \nundefine X\r\n", ChangeValue (One None) (codes "t1") (edits.Set (codes "t")), Becomes (codes " #c \\\n d\r\n\nelse ifdef Q\ndefine !=\t$ \n>CC+= \t\r\noverride= \t\t#\\\\\\\n\r\na&b :  b :$; $(p #)\\\n\t\\\r\n\na: c  $(q:;=|)\nt#c\nt1 = t\nundefine X\r\n")) ∷  -- random-121
    ([], AddLine Bottom (NewAssign (codes "t1") Simple []), Becomes (codes "t1 :=\n")) ∷  -- random-122
    (codes ".RECIPEPREFIX = %\r\n>t: u\r\n$$ ${g(} : : ${c} a&b \tt\t\r\n", RemoveLines (OfRule None (codes ">t")), Becomes (codes ".RECIPEPREFIX = %\r\n$$ ${g(} : : ${c} a&b \tt\t\r\n")) ∷  -- random-123
    ([], AddLine Bottom (NewAssign (codes "t1") Recursive (codes "a")), Becomes (codes "t1 = a\n")) ∷  -- random-124
    (codes "x.o y: \n\t\n\t#c\n\telse\n &: t1 += \r\n-x_9\\\r\n:= %.c t\\\r\n# c\r\n=:b!\r\n\r\n\tZ = 1\r\n", RemoveLines (OfAssign None (codes "-x_9")), Becomes (codes "x.o y: \n\t\n\t#c\n\telse\n &: t1 += \r\n=:b!\r\n\r\n\tZ = 1\r\n")) ∷  -- random-125
    (codes ">X", AddLine Bottom (NewAssign (codes "define") Append (codes "$(a b) $$")), Becomes (codes ">X\ndefine += $(a b) $$\n")) ∷  -- random-126
    (codes ".RECIPEPREFIX = X\n :\\\n\t\\\r\ndefine \t::= \\\\\\$x = #c \\\n d\r\nx.o y: c  -include2\n\t \r\ne \n$x &:: ${g(} $(q:;=|) \n", RemoveLines (OfRecipe None (codes "y") (ByNumber 2)), Refused Absent) ∷  -- random-127
    (codes "a&b\\\n: $(p #$(p #)\r\n${g(}: : .PHONY : $$ $(s\\) \r\n", AddLine Bottom (NewRule (codes "foo") Double []), Becomes (codes "a&b\\\n: $(p #$(p #)\r\n${g(}: : .PHONY : $$ $(s\\) \r\nfoo::\n")) ∷  -- random-128
    (codes " \\\n\t$(f {) : $x t \\\nt | \\# b\n \\\n\noverride != \\\\ ; \\$x \n", ChangeValue (One (Some 2)) (codes "override") (edits.Append (codes "2 3")), Refused NoSuch) ∷  -- random-129
    (codes ".RECIPEPREFIX = e\r\n-include2:: .PHONY \r\na\\=  !=  %.o $(p #)#c \\\n d\r\n)\0>}\0}&){\n", RemoveLines (OfAssign None (codes ">q")), Refused (BadArgument field.Name)) ∷  -- random-130
    (codes "export \t-x_9 ::=\\\n\t\\\r\nfoo \r\n::ifdef ::=  \\# $(f {)\t\r\n-include2 : \\\n \\\n $(s\\)\t$(a b)  # \\\r\nfoo: c \t%.o\n\tendif\r\n", SetRecipe (Some 1) (codes "-include2") (ByNumber 1) (codes "define"), Becomes (codes "export \t-x_9 ::=\\\n\t\\\r\nfoo \r\n::ifdef ::=  \\# $(f {)\t\r\n-include2 : \\\n \\\n $(s\\)\t$(a b)  # \\\r\nfoo: c \t%.o\n\tdefine\r\n")) ∷  -- random-131
    (codes ".RECIPEPREFIX = -\n$(a b) :b; \\\\ # \\\n.RECIPEPREFIX= \noverride \tCC \\\n+= \r\n>q +=\\\n\t\\\r\n \r\n", SetRecipe None (codes "$(a b)") (ByNumber 0) (codes "q:=1"), Refused Absent) ∷  -- random-132
    (codes ">x.o &:: \\\n  $(f {): \\\n \\\n $$\\\n\\\n#\r\ndefine \r\nx.o y: \ntdefine Q\n>\\\n\r\n", AddLine Bottom (NewRule (codes "$(a b)") Double (codes ".PHONY $(f {)")), Refused OpenDefine) ∷  -- random-133
    (codes "include a\nCC::= \\\n  \na: x.o  a\n.a\\\r\n>b\n-include2 &::\\\n\\\n${g(} \ta&b\\\n\t\\\r\n$x\t|$(s\\)  a&b \n", RenameTarget (codes "x.o") (codes "c"), Refused NoSuch) ∷  -- random-134
    (codes ".RECIPEPREFIX = d\n$(p #) $$ :: CC = \t  #\n\ta \\\n\tb\n.RECIPEPREFIX =\\\n$x\n!\\+(;{+$b#\n %.o: : $(s\\) %.o $x \nfoo: \nelse\nx.o y: ${c} a&b\n\t \n\\\n\t\na: ${g(}  $(a b)\r", ChangeValue (One (Some 1)) (codes ".RECIPEPREFIX") (edits.Append []), Refused (BadArgument field.Value)) ∷  -- random-135
    (codes "else idef# Q\n${g(}\t%.o ::: \t%.o\tb  $(f {) \nt:%.c t \\\n \\\n #\n", RenameTarget (codes "t") (codes "$(f {)"), Becomes (codes "else idef# Q\n${g(}\t%.o ::: \t%.o\tb  $(f {) \n$(f {):%.c $(f {) \\\n \\\n #\n")) ∷  -- random-136
    (codes ".RECIPEPREFIX = e\noverride != $(p #) $(q:;=|) \n$(p #)&: %.o\tfoo $(a b)  \n>q += a\\:b\nfoo: %.c\\\n\t$(q:;=|)\n$$ : # x ; y : z = 1\n>a\\\r\ndefine F \\\n\n", AddLine (AfterVar None (codes "override")) (NewAssign (codes "Y") Shell []), Becomes (codes ".RECIPEPREFIX = e\noverride != $(p #) $(q:;=|) \nY !=\n$(p #)&: %.o\tfoo $(a b)  \n>q += a\\:b\nfoo: %.c\\\n\t$(q:;=|)\n$$ : # x ; y : z = 1\n>a\\\r\ndefine F \\\n\n")) ∷  -- random-137
    (codes ".RECIPEPREFIX = t\r\n}=!endef:(|!{\r\n\r\t\\\n", AddLine (BeforeVar None (codes "}")) (NewAssign (codes "-x_9") Append (codes ";")), Refused (BadArgument field.Place)) ∷  -- random-138
    (codes "\\\n#\0\r\n \\\n\r\n\tZ = 1\r\na&b  &:%.o \\\n  $(s\\) \\\n \\\n \r\n", SetRecipe None (codes "a&b") (ByNumber 0) (codes "q:=1"), Refused Absent) ∷  -- random-139
    (codes "endef\n>ifdef Z\nifnef)#)", AddRecipe None (codes "a&b") Last (codes "x"), Refused NoSuch) ∷  -- random-140
    (codes " \\\n\r\nendif\r\nendif\r\na.b ?= | \\\n\r\n>define Q\r\ndefine \\\r\n :::= \r\n\tdefine X =\r\n${g(}\\\r\n: : foo: %.c a&b", AddLine (BeforeVar None (codes "a.b")) (NewAssign (codes "A") Recursive (codes "=")), Becomes (codes " \\\n\r\nendif\r\nendif\r\nA = =\na.b ?= | \\\n\r\n>define Q\r\ndefine \\\r\n :::= \r\n\tdefine X =\r\n${g(}\\\r\n: : foo: %.c a&b")) ∷  -- random-141
    (codes ".REIPEPREFIX = >\r\nA +=  \n\techo a # b\n%.c $(f {) ::: $(a b) \tt | \\\n  $(f {)\noverride\\\n!= a\\:b  1 a\\   \r\noverride X\nCC ::= a %.o\\\n\n:lse\r\n", ChangeValue (One None) (codes "CC") (edits.Set (codes "2 3")), Becomes (codes ".REIPEPREFIX = >\r\nA +=  \n\techo a # b\n%.c $(f {) ::: $(a b) \tt | \\\n  $(f {)\noverride\\\n!= a\\:b  1 a\\   \r\noverride X\nCC ::= 2 3\\\n\n:lse\r\n")) ∷  -- random-142
    (codes "X$: =\\\n\\\n$(q:;=|) \\\n1  \r\n \\\n\ta :: |  \\\r\n \r\n ::  $(X):::=\\\n\\\n2 3 \t${g(}\r\nta \\\n\tb\r\naecho a # b\r\n", RemoveLines (OfRule None (codes "a")), Becomes (codes "X$: =\\\n\\\n$(q:;=|) \\\n1  \r\n ::  $(X):::=\\\n\\\n2 3 \t${g(}\r\nta \\\n\tb\r\naecho a # b\r\n")) ∷  -- random-143
    (codes "a: $(q:;=|)  %.o\tx.o |\t ; $(p #) #\ndefine\t=x  y \\$x # \\\n.PHONY :::$x \t-include2 \r\n>ifdef Z\r\n", AddLine Bottom (NewAssign (codes "Y") Shell (codes "| $#")), Becomes (codes "a: $(q:;=|)  %.o\tx.o |\t ; $(p #) #\ndefine\t=x  y \\$x # \\\n.PHONY :::$x \t-include2 \r\n>ifdef Z\r\nY != | $#\n")) ∷  -- random-144
    ([], AddLine Bottom (NewAssign (codes "t") Simple (codes ":")), Becomes (codes "t := :\n")) ∷  -- random-145
    (codes "override define +=  \\\n  define\n$(a b) ::: $(a b)\\\n|  $$ \\\n \\\n -include2 # \\\r\n", ChangeValue (One None) (codes "define") (edits.Set []), Becomes (codes "override define +=  \\\n  \n$(a b) ::: $(a b)\\\n|  $$ \\\n \\\n -include2 # \\\r\n")) ∷  -- random-146
    (codes "\\\n(\\\n=\r\renf \\\n\t\\\n}\\\n\nifdef :=\\\n\t\n\\\n\t", ChangeValue (One None) (codes "ifdef") (edits.Set []), Becomes (codes "\\\n(\\\n=\r\renf \\\n\t\\\n}\\\n\nifdef :=\\\n\t\n\\\n\t")) ∷  -- random-147
    (codes "unexort Y\r\n&\r};{\t\\\n>!\\\n\\\\\n!=\r\nX$: :::= ${c}\r\nexport define", ChangeValue (One None) (codes "X$:") (edits.Set (codes "a&b -include2")), Refused (BadArgument field.Name)) ∷  -- random-148
    (codes "c : \\\n  a&b | $$ $(p #)\t\r\n$x:: Y=\t\n# \\\n\tZ = 1", RenameTarget (codes "$$") (codes "a"), Refused NoSuch) ∷  -- random-149
    (codes "override X := \t\r\n\t \nendif\n%.c: \t$x b $(q:;=|) # x ; y : z = 1\n$x:t t # x ; y : z = 1\n\\\n\t", ChangePrereqs (Some 4294967295) (codes "$x") (RemovePrereq (codes "$(q:;=|)")), Refused NoSuch) ∷  -- random-150
    []

answers_3 : map (λ row. outcome row.0 row.1) rows_3 ≡ map (λ row. row.2) rows_3
answers_3 = refl

abbrev rows_4 : List (List ℕ × Edit × Outcome)
rows_4 =
    (codes ".RECIPEPREFIX = >\r\n\\\n# c\r\nendef#c\r\n%.c &: $(p #) -include2\\\n\\\n# x ; y : z = 1\r\n|: c\n\\\n\t\\\r\n|  \t\r\n\tdefine Q\r\n", AddLine Bottom (NewAssign (codes "Y") Recursive []), Refused OpenDefine) ∷  -- random-151
    (codes "\\#x\\\r\n:::=\\\n\t= t\tx  y \neelse\nA \\\n \\\n ?= : 2 3$(f {)\t\nY! :=\tt #\0\na&b\\\n\\\n: $(p #)\n\\\n#\\\\\\\n\n\ty\r\n\ty\r\n \\\n\toverride += 1 a\0 \nb foo : foo : .PHONY \n\t\\\n\n\ty\r\n\ta\\\\\nendef#c\n", ChangePrereqs None (codes "foo") (AddPrereq false (codes "${g(}")), Becomes (codes "\\#x\\\r\n:::=\\\n\t= t\tx  y \neelse\nA \\\n \\\n ?= : 2 3$(f {)\t\nY! :=\tt #\0\na&b\\\n\\\n: $(p #)\n\\\n#\\\\\\\n\n\ty\r\n\ty\r\n \\\n\toverride += 1 a\0 \nb foo : foo : .PHONY ${g(} \n\t\\\n\n\ty\r\n\ta\\\\\nendef#c\n")) ∷  -- random-152
    (codes ".RECIPEPREFIX = x\r\n${c}\t&: ${g(}; a\\ \\\n\\\n\r\n", ChangeValue (One (Some 2)) (codes ".RECIPEPREFIX") (edits.Append (codes "c a\\:b")), Refused Reserved) ∷  -- random-153
    (codes ".RECIPEPFIX:::= foo\nelse ifdef Q\n\\\nc &:\\\n\tX ::  -\\nclude2 \n>t1::=$(f {)\\\n\t\\\r\n$x #\t\n-x_9= ;\\\n\t\\\r\n\n (\t \n>=\t\\\n$=\n\tx", AddLine (BeforeVar (Some 1) (codes ">t1")) (NewAssign (codes "Y") PosixSimple (codes "\\$x")), Refused (BadArgument field.Place)) ∷  -- random-154
    (codes "\r\n$(p #) :::$(a b) \t${c}\\\n| \t \r\n \\\n\r\nX:=$  $x\r\n\tendef\r\nendef ?= $x\r\n%.o:\\\n\\\n\\\n\t\\\r\n\r\n", ChangePrereqs (Some 2) (codes "%.o") (RemovePrereq (codes "%.o")), Refused NoSuch) ∷  -- random-155
    (codes "${c}$ &: $(f {)\\\n\t\\\r\n\r\nfoo: ${c} %.o\n\t# c\r\naendef\r\nA?=\\\n\\\n\r\nfoo: \r\nfoo: ${g(}\\\r\n$x\n\tZ = 1\nifdef\\\nB\r\nprivate\\\n\\\nt1 \t+=\0 \r\n", RemoveLines (OfRecipe (Some 2) (codes "foo") (ByNumber 2)), Refused Absent) ∷  -- random-156
    (codes "endef\\\n\r\nt :::$$ ; .PHONY", AddLine Bottom (NewAssign (codes "A") Shell (codes "a\\:b")), Becomes (codes "endef\\\n\r\nt :::$$ ; .PHONY\nA != a\\:b\n")) ∷  -- random-157
    ([], RemoveLines (OfRecipe (Some 2) (codes "b") (ByNumber 0)), Refused NoSuch) ∷  -- random-158
    (codes "a+b ?= #\r\n\tZ = \\1\r\no-$(a b)!= \\\n\r", ChangeValue (One None) (codes "Z") (edits.Set []), Becomes (codes "a+b ?= #\r\n\tZ = \r\no-$(a b)!= \\\n\r")) ∷  -- random-159
    (codes "private\na\\= +== \\\r\n \n\tt: u\nifndef X # c\n\\\nprivate  override t1 += a %.c\nfoo a&b:: X$: \\\n:::= \\\n #\\\\\\\n\nX$: =|  \nfoo:\\\n\t\\\r\n$(s\\)\t|$x\t$(f {) \\\n  \n", ChangeValue (One None) (codes "t1") (edits.Set (codes "2 3 1")), Becomes (codes "private\na\\= +== \\\r\n \n\tt: u\nifndef X # c\n\\\nprivate  override t1 += 2 3 1\nfoo a&b:: X$: \\\n:::= \\\n #\\\\\\\n\nX$: =|  \nfoo:\\\n\t\\\r\n$(s\\)\t|$x\t$(f {) \\\n  \n")) ∷  -- random-160
    (codes "endef::=  \n\tendif\nx.o y: \n>\tZ = 1\n\ta\\\r\n>b\na#c\n", ChangeValue (One None) (codes "endef") (edits.Append []), Refused (BadArgument field.Value)) ∷  -- random-161
    (codes "a: %.o\n# x ; y : z = 1\nendif\r\ndefine \r\nifdef \\\n \\\n := a\\:b#c \\\n d\r\nelse\r\nY\\\n\\\n= 2 3\\\n\\\n\r # \r\r\nCC=\\\n\\\n2 3 \r\n", SetRecipe None (codes "a") (ByNumber 1) (codes "a\\"), Refused (BadArgument field.Line)) ∷  -- random-162
    (codes "t1?= b\r\nx.o y: \n\t\ta\r\n>en=dif\r\nexport private define .RECIPEPEFIX\ndefine ::= ", ChangeValue (One None) (codes "t1") (edits.Append []), Refused (BadArgument field.Value)) ∷  -- random-163
    (codes "define X =\n##$)$&=:\\?", AddLine (AfterVar None (codes "X$:")) (NewAssign (codes "endef") Simple []), Refused (BadArgument field.Place)) ∷  -- random-164
    (codes ">t: u\net: u\n", RemoveLines (OfRule None (codes ">t")), Becomes (codes "et: u\n")) ∷  -- random-165
    (codes ">y\r\n#! :=\t ", ChangeValue (One None) (codes ">q") (edits.Set []), Refused (BadArgument field.Name)) ∷  -- random-166
    (codes "tZ = 1\nt1 \\\r\n :::=\\\n$$ \r a\\:b\n else ifdef Q\nifndef X # c\n-incude2 : \t| \\\n  \n%.o&: \t$(a b) #c \\\n d\n.RECIPEPREFIX= >\n\t \n", AddRecipe None (codes "%.o") Last (codes " a"), Refused RecipePrefix) ∷  -- random-167
    (codes "CC:=  #c \\\n d\nX ::= =\n$x:$(f {) c\t| $(q:;=|)  t \nendef#c\nendef ?=\\\n\\\n.PHONY#\n$(s\\) ::$(f {)\\\n\\\nc\n>\\\n\n", AddLine (BeforeVar (Some 4294967295) (codes "endef")) (NewRule (codes "${g(}") Single (codes "b")), Refused NoSuch) ∷  -- random-168
    (codes "t\\\n\n \\\n\n.a\\\\\nexport private define E # c\n foo : \\\n\\\n\nx.o y: -include2 t\n\tt: u\n\tendef\n\ta\\\r\n>b\n-x_9!= #\\\\\ndefine += \\\\\\ # c\n$(a b) ::\\\n\t\\\r\n${c}\0", AddRecipe (Some 1) (codes "b") Last (codes "t"), Refused NoSuch) ∷  -- random-169
    (codes ".RECIPEPREFIX = %\n> \n", ChangeValue (One None) (codes ".RECIPEPREFIX") (edits.Set (codes "2 3")), Refused Reserved) ∷  -- random-170
    (codes "ifndef X # c\n.RECIPEPREFIX:= \\\n", RemoveLines (OfAssign None (codes ".RECIPEPREFIX")), Refused Reserved) ∷  -- random-171
    (codes "\\\n-include2 &:\\\n\t\\\r\n\nendif # c\n\toverride  ::=  t  ", AddLine (BeforeRule (Some 1) (codes "-include2")) (NewRule (codes "a") Single (codes "$(a b)")), Becomes (codes "a: $(a b)\n\\\n-include2 &:\\\n\t\\\r\n\nendif # c\n\toverride  ::=  t  ")) ∷  -- random-172
    (codes "x.o y: c \\\n \\\n $(a b)\n%.c &:\\\n\t\\\r\nb \r\nX!=\\\n\t\\\r\n$  \\\n  # c\n\\\nendef\r\n>a\\\r\n", RemoveLines (OfRecipe None (codes "%.c") (ByNumber 2)), Refused Absent) ∷  -- random-173
    (codes "a&b: $\t :  | \\\n   \r\neendif\n\ty\r", AddLine Bottom (NewAssign (codes "endef") Simple []), Refused OpenLine) ∷  -- random-174
    (codes " ", AddLine Bottom (NewAssign (codes "-x_9") Append []), Becomes (codes " \n-x_9 +=\n")) ∷  -- random-175
    (codes "ifdef+= $(a b) |\\\n\n", AddLine (BeforeVar (Some 0) (codes "ifdef")) (NewRule (codes "$$ \\") Single []), Refused (BadArgument field.Targets)) ∷  -- random-176
    (codes "-x_\t\t?= a \n\t\\\nexport X\nY +=  ", AddLine Bottom (NewRule (codes "%.c") Double []), Becomes (codes "-x_\t\t?= a \n\t\\\nexport X\nY +=  \n%.c::\n")) ∷  -- random-177
    ([], AddLine Bottom (NewRule (codes "foo") Single (codes "$(s\\) $$")), Becomes (codes "foo: $(s\\) $$\n")) ∷  -- random-178
    (codes "endif\nfoo: x.o\n\t\n\telse\nt\\\n\n-include2:: $(p #) c \t%.o # \\\n \n\ta\\\r\n>b\n\n\tX$:+=\nexport ifdef = $(s\\) \n", AddLine (AfterVar None (codes "t1")) (NewAssign (codes "-x_9") Recursive (codes "\\# \\$x")), Refused NoSuch) ∷  -- random-179
    (codes "x &:: \\\n \\\n b: \\\n\\\n#\0\n{#c\n%.c ::: -include2 \nc :\\\n\\\n$(f {) ; \nfoo: $(f {)\t$(p #)\n%.c: \nendif # c\n-include2\\\r\n:\\\\\\\n;\\\n\t\\\r\n%.o\\\n\t\\\r\n\n\\)(", ChangePrereqs None (codes "%.c") (AddPrereq true (codes "%.c")), Becomes (codes "x &:: \\\n \\\n b: \\\n\\\n#\0\n{#c\n%.c ::: -include2 \nc :\\\n\\\n$(f {) ; \nfoo: $(f {)\t$(p #)\n%.c: | %.c \nendif # c\n-include2\\\r\n:\\\\\\\n;\\\n\t\\\r\n%.o\\\n\t\\\r\n\n\\)(")) ∷  -- random-180
    (codes "A :::= %.o \n>q += b\r\n>q+= t \r\n : ifdef+=b#c \\\n d\r\n-x_9:=  \\\n\\\n\nendef\\\n\r\n$(p #) t::: c:  \r\n\t$(\r\nt \r\n", RemoveLines (OfAssign (Some 2) (codes ">q")), Refused (BadArgument field.Name)) ∷  -- random-181
    (codes "CC \t:= $(s\\) # c\n\tifdef Z\n$$:\\\n${g(}\t$(q:;=|) # x ; y : z = 1\n\t#\\\\\na: $(s\\)\t$(s\\)\n.endef\nendif\n$$ &:: %.o a\nifdef += $(a b)", RemoveLines (OfAssign (Some 2) (codes "CC")), Refused NoSuch) ∷  -- random-182
    (codes "ifdef\\\nB\n endif\n", ChangePrereqs (Some 1) (codes "d|") (RemovePrereq (codes "Ã©")), Refused (BadArgument field.Target)) ∷  -- random-183
    (codes "endef :=\\\\\\ \r\nCC ?=\t \r\nendef#c\r\nt1 ?= \t$(\\\n\t\r\n\\\n# c\r\nelse\nprivate  override ?= $  a\\:b # x ; y : z = 1\nx.o&:: \\\r\n b .PHONY\\\n\tc ", RemoveLines (OfAssign None (codes "endef")), Becomes (codes "CC ?=\t \r\nendef#c\r\nt1 ?= \t$(\\\n\t\r\n\\\n# c\r\nelse\nprivate  override ?= $  a\\:b # x ; y : z = 1\nx.o&:: \\\r\n b .PHONY\\\n\tc ")) ∷  -- random-184
    (codes "a&b \\\n  :: \t \\\n \\\n \r\n# x ; y : z = 1\r\n${c} : :c .PHONY t ; \\\n\\\n\r\n \\\n\r\n.a \\\n\tb\r\nse\r\n\t#\\\\\r\ndefine$&#:\r#\r\n{\t\t\\\n\r\n\t\\\n\r\n", RenameTarget (codes "a&b") (codes "$$"), Becomes (codes "$$ \\\n  :: \t \\\n \\\n \r\n# x ; y : z = 1\r\n${c} : :c .PHONY t ; \\\n\\\n\r\n \\\n\r\n.a \\\n\tb\r\nse\r\n\t#\\\\\r\ndefine$&#:\r#\r\n{\t\t\\\n\r\n\t\\\n\r\n")) ∷  -- random-185
    (codes ".RECIPEPREFIX = i\r\noverride a.b \t= $(a b) #\\\\\\\n\r\n endif\r\n\tifdef Z\r\n$(a b) : %.o : # x ; y : z = 1\r\n", ChangeValue (One (Some 0)) (codes "endef") (edits.Append (codes "1")), Refused NoSuch) ∷  -- random-186
    (codes "endef#c\n\tifdef Z\nb:: ${c} :$x \\\n  $(s\\) .PHONY\t\n", ChangeValue (One None) (codes "Y") (edits.Append (codes "x.o")), Refused NoSuch) ∷  -- random-187
    (codes "b: :$(f {) ; foo$(a b)$$ \r\nexport Y\\\n\t\\\r\n:::=\\\n:t a\r\nCC \\\n:= \\\n  $(q:;=|) $ \r\n", RemoveLines (OfRule None (codes "$(a b)")), Refused NoSuch) ∷  -- random-188
    (codes "foo: foo\n\t#\\\\\\\n\ntdefine Q", RemoveLines (OfRecipe None (codes "foo") (ByNumber 1)), Becomes (codes "foo: foo\ntdefine Q")) ∷  -- random-189
    (codes "export define", AddLine Bottom (NewAssign (codes "Y") Recursive (codes "=")), Refused OpenDefine) ∷  -- random-190
    (codes "$$: %.c b(s\\) $(a b)#\\\\\\\n\n${c}: \r\n\ty\r\r\n>${c} : \\\r\n {\n\\\noverride !=   \n>define D\r\n\telse\n", AddRecipe (Some 4294967295) (codes "${c}") Last (codes "\r"), Refused (BadArgument field.Line)) ∷  -- random-191
    (codes ".RECIPEPREFIX = t\n$x&: c : a&b | foo #\n\na\n\telse\n: define\\\n\t::= a\\ \neelse\nCC\\\n\t\\\r\n?=\\\r\n#\n", AddLine (AfterVar None (codes ".RECIPEPREFIX")) (NewRule (codes "%.o") Double (codes "$(q:;=|) %.c")), Refused Reserved) ∷  -- random-192
    (codes "endef :::= \\\n \\\n #\0\n\0+}\n$(p #) :: A \\\n  :=foo  \nb\\\n\\\n:  $(a b) ${c}\\\r\n| $(p #) $(f {)# x ; y : z = 1\n\t \n \\\n\tCC::= 2 3\t# c\n", RemoveLines (OfRecipe (Some 4294967295) (codes "b") (ByNumber 2)), Refused NoSuch) ∷  -- random-193
    (codes "ifndef X # ) \\\n", AddLine Bottom (NewAssign (codes "t1") Shell (codes "$x $(s\\)")), Refused OpenLine) ∷  -- random-194
    (codes "#\\\\\\\n", AddLine Bottom (NewAssign (codes "ifdef") Simple (codes "$(s\\)")), Refused OpenLine) ∷  -- random-195
    (codes "a: \n\tifdef Z\r\n$(p #) &: x.o\\\n\t\r\nfoo: $(q:;=|) : \\\n  .PHONY\t|c\\\n\t;\\\n\t\\\r\n2 3\n", AddLine (BeforeRule None (codes "%.o")) (NewRule [] Double (codes "${c} t")), Refused (BadArgument field.Targets)) ∷  -- random-196
    (codes ".RECIPEPREFIX = >\nifneq\nifdef ::= -include2\n#\\\\\\\n\r\n\tendif\nx.o y: t\t$(q:;=|)\n\tdefine Q", RemoveLines (OfRule None (codes "y")), Refused (SharedRule 2)) ∷  -- random-197
    (codes ".RECIPEPREFIX = i\na.b\t::=$\\\n  $$ $(s\\)#\\\\\\\n\n\tZ = 1\nendif\na&b&:: \t%.c \t$(p #) \\\r\n |  \t; $(s\\) $#\n", AddLine (BeforeVar None (codes ".RECIPEPREFIX")) (NewAssign (codes "CC") Recursive (codes "c")), Refused Reserved) ∷  -- random-198
    (codes "\ta \\\n\tb\n \nb :: \n-include2 \t$(a b) &:\t\\# \t$(q:;=|) \t$(q:;=|)\n\t#c\noverride+= \\# :\\\n\\\n# \\\n$(q:;=|) : -include2\t#\\\\\\\n\\", ChangePrereqs None (codes "b") (RemovePrereq (codes "x.o")), Refused Absent) ∷  -- random-199
    (codes "\\\n$(f { $x :: X \t!=\\\n\\!\n$(s\\)b \n\t\n\t\\\nendef:::= #c \\\n d\n$(q:;=|):\\ \\\n.PHONY \n##X\ndefine\t\n>\\\n\\$\na: %.o\n\ntelse\nfoo: $(a b)\n\telse", AddLine Bottom (NewRule (codes "${g(}") Double (codes "%.o foo")), Refused OpenDefine) ∷  -- random-200
    []

answers_4 : map (λ row. outcome row.0 row.1) rows_4 ≡ map (λ row. row.2) rows_4
answers_4 = refl

abbrev rows_5 : List (List ℕ × Edit × Outcome)
rows_5 =
    (codes "%.o:a  $(f {) \r\n.RECIPEPREFIX +=\\$x:# \\", RemoveLines (OfAssign (Some 0) (codes ".RECIPEPREFIX")), Refused Reserved) ∷  -- random-201
    (codes ">\\\n\nifeq (a,$(b\n &: ifdef !=\\\n\t$\\\n \n${c}  a&b:$(f {)\\\r\n$$\\\n\tc\\\n\\\n\neelse\n", ChangePrereqs None (codes "$(f {)") (RemovePrereq (codes "t")), Refused NoSuch) ∷  -- random-202
    ([], AddLine Bottom (NewRule (codes "a $(p #)") Single (codes "b")), Becomes (codes "a $(p #): b\n")) ∷  -- random-203
    (codes "\tZ = 1\n\t#c\n\\\na.b :::= $(s\\) \n>#c\n\tx\n\telse\na: ${g(} \noverride define!=$(a b)$(f {)# \\\n", AddRecipe None (codes "$(a b)") Last (codes "\tb"), Refused NoSuch) ∷  -- random-204
    ([], AddLine Bottom (NewAssign (codes "t1") Simple []), Becomes (codes "t1 :=\n")) ∷  -- random-205
    (codes "define != \\$x; $## \r\n\\\n#\\\\\n\t\\\n\nx.o y: c $x\nx.o \t$x  &: c \\\n  :  \n\\\n#\n de=fine \0\r \n\r\r\n", RemoveLines (OfRecipe None (codes "y") (ByNumber 1)), Refused Absent) ∷  -- random-206
    (codes " x.o: : \\\n  a; a\n$$:\n\tifdef Z\r\n%.o :foo |  \t\n\t\\\n\r\n\tx\r\n\n", AddRecipe None (codes "$$") Last (codes "y # z"), Becomes (codes " x.o: : \\\n  a; a\n$$:\n\tifdef Z\r\n\ty # z\n%.o :foo |  \t\n\t\\\n\r\n\tx\r\n\n")) ∷  -- random-207
    (codes "export >q!= $(s\\)$x\t: \n\t\\\n\r\na: \n \n\tifdef Z\n.a \\\n\tb\r\n\\\n\t\nx.o y: a  a&b\n\t \n>\r\n\t \n${c}&:c \\\n  | \\\nelse\tx.o \nendef:::= $x a&b \\", RemoveLines (OfRule (Some 0) (codes "y")), Refused NoSuch) ∷  -- random-208
    (codes "x.o:\\\n\t\\\r\n\r\n+!=\r $\\\n \\\r\n>else\r\nb : : $$ ;a&b \\\\\\\n>q \\\r\n != \t #\r\n $(s\\) :$(f {) \r\n", AddRecipe (Some 4294967295) (codes "x.o") Last (codes "a\\"), Refused (BadArgument field.Line)) ∷  -- random-209
    (codes "b\n$(p #): a %.o \\\n \\\n foo| c \nendif # c\nCC ?=  #c \\\n d\nelse &:\\\n\t\\\r\nb-include2 x.o #\\\\\\\n\n# \r", AddLine (AfterVar None (codes "CC")) (NewAssign (codes "X") Shell []), Becomes (codes "b\n$(p #): a %.o \\\n \\\n foo| c \nendif # c\nCC ?=  #c \\\n d\nX !=\nelse &:\\\n\t\\\r\nb-include2 x.o #\\\\\\\n\n# \r")) ∷  -- random-210
    ([], AddLine Bottom (NewRule (codes "foo") Double (codes "$(p #)")), Becomes (codes "foo:: $(p #)\n")) ∷  -- random-211
    (codes "override\tCC :=\\\n\\\n${c}-include2 \nA =\\\n\\\n\n", ChangeValue (One None) (codes "CC") (edits.Set (codes "${g(}")), Becomes (codes "override\tCC :=\\\n\\\n${g(} \nA =\\\n\\\n\n")) ∷  -- random-212
    (codes "a.b  :::=1\t\n$(p #) &:  \nfoo: a b)#\0\n\\\nCC+= \\$x #c \\\n d\n.RECIPEPREFIX :=>\n-include2:: $-include2 t ${g(}|  \n\\\n#\0\n\tenif\naendif\n\\\nfoo &:  a ;c #c \\\n d\nx.o y: ${c} \\\n \\\n .PHONY\n# \r\n #\0\n", RemoveLines (OfRule (Some 0) (codes "$&")), Refused (BadArgument field.Target)) ∷  -- random-213
    (codes ".RECIPEPREFIX::=\r\ndefine :=ba\\  ", RemoveLines (OfAssign (Some 2) (codes "define")), Refused NoSuch) ∷  -- random-214
    (codes "\t\nendif\nA \\\n \\\n ?= $# \n-x_9= \na::: ${c} a \\\r\n \n$(a b) &::  \n\\\nx.o  &: ${g(}\\\n\t\\\r\n| $(p #) ; \\\\\t", ChangeValue (One (Some 2)) (codes "-x_9") (edits.Set (codes "foo")), Refused NoSuch) ∷  -- random-215
    (codes "define\\\n?= \\ \\\n \r\n$(q:;\\\\\n=|) :\\\\\\\n${g(}  a&b\\\n\tfo | ${g(} \\\nc \r\n-include2\\\\\\\nb &:$$ foo foo#\\\\\\\n\r\n \\#x\t?=t\r\n", AddLine (BeforeRule (Some 4294967295) (codes "-include2")) (NewAssign (codes "X") Immediate (codes "-include2")), Refused NoSuch) ∷  -- random-216
    (codes "endef?= \tb | \\\n$(s\\) #\\\\\\\n\nifeq (a,$(b\n", AddLine Bottom (NewAssign (codes "define") PosixSimple (codes "a&b")), Becomes (codes "endef?= \tb | \\\n$(s\\) #\\\\\\\n\nifeq (a,$(b\ndefine ::= a&b\n")) ∷  -- random-217
    (codes "\tifdef Z\r\n\t\\\n%.o $(p #): a \\\r\n # \\\r\n%.c&:a&b\r\nifndef X # c\r\n\t\r\n $x:: .PHONY \\\r\n :\\\n\t\\\r\nt \r\n", RenameTarget (codes "-include2") (codes "a"), Refused NoSuch) ∷  -- random-218
    (codes "override X\n \\\n\tendef?=.PHONY\\\r\naPHONY (\nX:=  \r\n${g(}\t$(q:;=|) &:: \\\n \\\n $(p #)\ta\ta&b # \\\r\nCC ?=\\\r\n$(s\\)#c \\\n d\n$$  c :t1 \\\\\n:= ;#\r\n\t \r\nt  &: a&b \tx  y $\\\n  ", RemoveLines (OfAssign None (codes "CC")), Refused NoSuch) ∷  -- random-219
    (codes "define := :\n \na: $(f {)  a\n \\\n\n\t#\\\\\\\n\nifneq\n.RECIPE=PREFIX ?=\\\n# c\noverride override >q ?=  #c \\\n d\n.PHONY :${g(} \t: $$ $(s\\) $(f {) \n\t \n\ta \r\n\n\tb\na\t-include2:: \\\n\t\\\r\n\n", RemoveLines (OfRule (Some 1) (codes "a")), Becomes (codes "define := :\n \nifneq\n.RECIPE=PREFIX ?=\\\n# c\noverride override >q ?=  #c \\\n d\n.PHONY :${g(} \t: $$ $(s\\) $(f {) \n\t \n\ta \r\n\n\tb\na\t-include2:: \\\n\t\\\r\n\n")) ∷  -- random-220
    (codes "X = $ \t\\#c \r\n>endef x\r\nt:\\\n\t\r\nifdef\\\nB\r\ndefine =\t$#\t\r\nendif\r\nprivate\t.RECIPEPREFIX = \\\r\n  # c\r\n\tdefine\t:=  \\\r\n \r\n", RemoveLines (OfAssign None (codes ".RECIPEPREFIX")), Refused Reserved) ∷  -- random-221
    (codes ".RECIPEPREFIX = .\nifeq (a,$(b\n>q !=$# $# $(p #) \na.b += | \0 \t.PHONY \t\n\techo a # b", ChangeValue (One None) (codes ">q") (edits.Set (codes "\\#")), Refused (BadArgument field.Name)) ∷  -- random-222
    (codes "a\\\n\\\n${c}\\\n\t\\\r\n:  -include2 $(q:;=|)\te$#f # x ; y : z = 1\n\t\n\telse\na.b != $\\\n  # \r\na  foo: a.b := \\\\ $  \\\\ \n-include2 &:: a c foo\t# \r\n$(p #) $x&::-include2 \n", RemoveLines (OfAssign None (codes "a.b")), Becomes (codes "a\\\n\\\n${c}\\\n\t\\\r\n:  -include2 $(q:;=|)\te$#f # x ; y : z = 1\n\t\n\telse\na  foo: a.b := \\\\ $  \\\\ \n-include2 &:: a c foo\t# \r\n$(p #) $x&::-include2 \n")) ∷  -- random-223
    (codes "privat ifdef :&\n \\\n $= \r\n", AddLine (BeforeRule None (codes "privat")) (NewAssign (codes "Y") PosixSimple (codes "b")), Becomes (codes "Y ::= b\nprivat ifdef :&\n \\\n $= \r\n")) ∷  -- random-224
    (codes ")!\\\0\n\r\nc &: %.c\\\r\n${g(} #\0\r\nprivate >q!=\0 $(a b) \r\na: foo ; .PHONY # x ; y : z = 1\r\nendef x\n \t\\\n })$\\})X$\\", AddRecipe None (codes "a") Last (codes " a"), Becomes (codes ")!\\\0\n\r\nc &: %.c\\\r\n${g(} #\0\r\nprivate >q!=\0 $(a b) \r\na: foo ; .PHONY # x ; y : z = 1\r\n\t a\nendef x\n \t\\\n })$\\})X$\\")) ∷  -- random-225
    (codes "a \\\n  &:\\\nx.o\\\n\t%.c\\\n\\\na&b | .PHObNY \n(\r\n", AddRecipe (Some 0) (codes "a") Last (codes "\tb"), Refused NoSuch) ∷  -- random-226
    (codes "$(f {) : %.c |  # \\\r\n -include b c\r\n$(p #) : $(f {) ;a\\:b#c \\\n d", ChangePrereqs None (codes "$(q:;=|)") (RemovePrereq (codes "$(p #)")), Refused NoSuch) ∷  -- random-227
    (codes "override \\\n \\\n >q ?=x  yt%.c :  \nifdefA\n#c \\\n d\n>t: u\n.REendefIPEPREFIX:= >\n;|\n>endef\na: \n", ChangeValue (One None) (codes ">q") (edits.Append []), Refused (BadArgument field.Name)) ∷  -- random-228
    (codes ".RECIPEPREFIX = $$\n:\n$(q:;=|) : : | x.o \n \\\n \\\n &:ifdef ::= \\\\\nx.o y: \n\tZ = 1\na&b :-include2|foo \\\n", ChangePrereqs None (codes "x=1") (RemovePrereq (codes "x.o")), Refused (BadArgument field.Target)) ∷  -- random-229
    (codes "private\tendef ?= \r\n$(a b) %.o :\t${c} c t # c\r\n+  ?=  \\\n \\\n \r\n>\\\n\r\nendef x\r\nc  &: %.c: t \\\n$$# x ; y : z = 1", AddLine (BeforeVar None (codes "+")) (NewRule (codes "$$") Double (codes "t")), Refused (BadArgument field.Place)) ∷  -- random-230
    (codes ".PHONY :  CC\t=# c\n%.c: :   \n\tdefine Q\nendif # c\nifdef :::= \t\\\n\t\\\r\n\n", AddLine (AfterVar (Some 2) (codes "ifdef")) (NewRule (codes "a&b") Single (codes "c")), Refused NoSuch) ∷  -- random-231
    (codes "\t#c\n-include2 &:a.b::= \n$(a b) : a&b $(p #) $(f {) ;\t$$ \nA ?= \\\\\t: = #\0\n\\\n\t\n$(f {)&::\td| \t.PHONY \ndefine := -include2 \\\n  #\\\\\\\n\na: \n\ta\\\\\noverride \t:::= \n", ChangePrereqs None (codes "a") (RemovePrereq (codes "a&b")), Refused Absent) ∷  -- random-232
    (codes "%.o: .PHONY\\\n\\\n|\\\\\\\n${c}  ${c}\n\t\nexport private define D\n>private a.b :=\n\nfoo: \nA := \\\n \nunexport Y", ChangeValue (One None) (codes "-x_9") (edits.Set (codes "foo")), Refused NoSuch) ∷  -- random-233
    (codes " befine:=2 3\\\n\t\\\r\n$(w \\\n ", AddLine Bottom (NewRule (codes "${g(}") Double (codes "-include2")), Becomes (codes " befine:=2 3\\\n\t\\\r\n$(w \\\n \n${g(}:: -include2\n")) ∷  -- random-234
    (codes "\t \n\\\n.PHONY $$&:: t\n>q += ${c} %.o \n\t$(p #) &: ${g(}  :  \n", SetRecipe None (codes ".PHONY") (ByNumber 1) (codes "y # z"), Refused Absent) ∷  -- random-235
    (codes "$(f {) &:: a\\ b c |\\\n\\\n #\\\\\\\n\n \\\n \\\n :X::=-include2a ; #c \\\n d\nifdef :::=\\# $( \\\r\n %.c #c \\\n d\nadefine Q\n$(f {) : >q::= \\$x $\\\n#\0\nifndef X # c\nb:::#\\\\\\\n\nifneq\n ${g(}\\\n\t-include2: \\\n \\\n %.c :\\\n\t\\\r\n\\$(s\\) \\\n \\$(p #) a \\\n  | b#c \\\n d\n", AddLine (BeforeVar (Some 1) (codes "ifdef")) (NewRule (codes "$$") Single (codes "b foo")), Becomes (codes "$(f {) &:: a\\ b c |\\\n\\\n #\\\\\\\n\n \\\n \\\n :X::=-include2a ; #c \\\n d\n$$: b foo\nifdef :::=\\# $( \\\r\n %.c #c \\\n d\nadefine Q\n$(f {) : >q::= \\$x $\\\n#\0\nifndef X # c\nb:::#\\\\\\\n\nifneq\n ${g(}\\\n\t-include2: \\\n \\\n %.c :\\\n\t\\\r\n\\$(s\\) \\\n \\$(p #) a \\\n  | b#c \\\n d\n")) ∷  -- random-236
    (codes "\t\\\n$| &:\\\n\t\\\r\n$(q:;=|) $(f {) \\\n  $(s\\)\t\nendif\r\n\\\n#c \\\n d\r\nX$ \\\n!= \0 # \r\r\n\\#x:::= \r\n x.o \t$(a b):::  c :\\\r\n$(a b)\\\r\n\r\n!=\\\n(\\\n \\\n}:endef(X\r\n", RemoveLines (OfAssign None (codes "\\#x")), Refused (BadArgument field.Name)) ∷  -- random-237
    (codes "\tdefine Q\n", AddLine Bottom (NewAssign (codes "t") Simple []), Refused OpenDefine) ∷  -- random-238
    (codes "foo: ${g(} \\\r\n a&b\n\t$(\nelse\n\ty\r\r\n : override\t-x_9 \\\n \\\n :::= $\r\n\n\r\n-include2\ta: X\\\n\\\n:=\\\n\t\r\n-include2 :\\\n\t\\\r\n${c} \\\r\n $(a b)\tx.o| a\\ \\\n; |\\\n\\# \r\r\na  %.o\t: >q\t:::= a\\:b \t\r\n \\\n\r\n ifneq\r\n", ChangePrereqs None (codes "foo") (RemovePrereq (codes "${g(}")), Becomes (codes "foo: \\\r\n a&b\n\t$(\nelse\n\ty\r\r\n : override\t-x_9 \\\n \\\n :::= $\r\n\n\r\n-include2\ta: X\\\n\\\n:=\\\n\t\r\n-include2 :\\\n\t\\\r\n${c} \\\r\n $(a b)\tx.o| a\\ \\\n; |\\\n\\# \r\r\na  %.o\t: >q\t:::= a\\:b \t\r\n \\\n\r\n ifneq\r\n")) ∷  -- random-239
    (codes ".RECIPEPREFIX = x\n\\\r\n:define !=| \r\n>ifdef Z\nA :::=  #\0\r\n%.c : \r\nprive\r\n", AddLine (BeforeRule None (codes "%.c")) (NewAssign (codes "a.b") Append (codes "2 3 2 3")), Becomes (codes ".RECIPEPREFIX = x\n\\\r\n:define !=| \r\n>ifdef Z\nA :::=  #\0\r\na.b += 2 3 2 3\n%.c : \r\nprive\r\n")) ∷  -- random-240
    (codes "\tt: u\r\n\tdefine Q\r\nc :| \r\nels?e ifdef Q\noverride X$  !=\\\r\n\r\nifdef?= \\\\ a&b : \r\n-include2 : a \\\n  : ${c}  f {) a|a \neZ = 1\n", ChangeValue (One None) (codes "ifdef") (edits.Set (codes "-include2")), Becomes (codes "\tt: u\r\n\tdefine Q\r\nc :| \r\nels?e ifdef Q\noverride X$  !=\\\r\n\r\nifdef?= -include2 \r\n-include2 : a \\\n  : ${c}  f {) a|a \neZ = 1\n")) ∷  -- random-241
    (codes "t1 != ${u $(m \\\n n) x.o#\r\n-x_9 += \ta%.c \\# \r\no-$(a b)\t::= \\\\ ${c}1# \r\n$(f {) $(f {) :\ta ; \\\n \\\n \\# = $\\\n #\n# \\\r\n #\\\\\\\n", AddLine (AfterVar None (codes "-x_9")) (NewAssign (codes "e") Immediate (codes "1")), Becomes (codes "t1 != ${u $(m \\\n n) x.o#\r\n-x_9 += \ta%.c \\# \r\ne :::= 1\no-$(a b)\t::= \\\\ ${c}1# \r\n$(f {) $(f {) :\ta ; \\\n \\\n \\# = $\\\n #\n# \\\r\n #\\\\\\\n")) ∷  -- random-242
    (codes "%.c .PHONY :A  :=-include2 \n$\n\tX ::= $# \nifdef A\n++= ${c} ; \na&b .PHONY ::: ;\t  #\nifeq (a,$(b\nY = : \n$x : $$ $$\n", ChangePrereqs (Some 0) (codes "$x") (AddPrereq true (codes "b")), Refused NoSuch) ∷  -- random-243
    ([], AddLine Bottom (NewAssign (codes "define") Recursive (codes "$(q:;=|)")), Becomes (codes "define = $(q:;=|)\n")) ∷  -- random-244
    (codes ".RECIPEPREFIX = X\n$(q:;=|) : : t\tc \r\nexport private define F \\\n\r\nendif # c\r\n>endef\na\t$(a b) :\\\n\t-include2 \r\n\t\\\na&b&::b| \t#\\\\\\\n\r\n ifdef \\\n= \\$x.PHONY $  \t\r\n", RemoveLines (OfAssign None (codes ".RECIPEPREFIX")), Refused Reserved) ∷  -- random-245
    (codes "endef#c", AddLine Bottom (NewRule (codes "foo") Single (codes "$(f {) t")), Becomes (codes "endef#c\nfoo: $(f {) t\n")) ∷  -- random-246
    (codes "endef\\\n\n\\\n(=X\\\\\n\\\n|\\\n", AddLine Bottom (NewRule (codes "-include2 x.o") Double (codes "a&b b")), Refused OpenLine) ∷  -- random-247
    (codes ".RECIPEPREFIX = X\n \\\n\tfoo : \\\r\n override \\\r\n a.b != \n==\nendef{\0)\\", ChangeValue (One None) (codes ".RECIPEPREFIX") (edits.Append (codes ":")), Refused Reserved) ∷  -- random-248
    (codes "\\\n\t\na\\\n$(s\\): x=1 \\\n \\\n | $$\n\t\nifdef A\n.\\\n\n>echo a # b\nta \\\n\tb\nx.o y: \n\techo a # b\n#c \\\n d\nX :=  \n", ChangeValue (One None) (codes "X") (edits.Set (codes "$(f {)")), Becomes (codes "\\\n\t\na\\\n$(s\\): x=1 \\\n \\\n | $$\n\t\nifdef A\n.\\\n\n>echo a # b\nta \\\n\tb\nx.o y: \n\techo a # b\n#c \\\n d\nX :=  $(f {)\n")) ∷  -- random-249
    (codes "define X =\n\t\nifdef ?=} : $# \\\n \\\n $#\\\n\n", AddLine (BeforeRule None (codes "a")) (NewRule (codes "a&b ${c}") Double (codes "%.o")), Refused NoSuch) ∷  -- random-250
    []

answers_5 : map (λ row. outcome row.0 row.1) rows_5 ≡ map (λ row. row.2) rows_5
answers_5 = refl

abbrev rows_6 : List (List ℕ × Edit × Outcome)
rows_6 =
    (codes ".RECIPEPREFIX = -\n${g(}:c\\\n:\\\\\\\n%.c  %.c\n\t\\\n$(q:;=|)\\\r\n &: $(s\\)\nendef#c\nY+= a&b #c \\\n d\n\t\\\n  ::\\\n\t\\\r\nY!= a\\  \nY!=\t.PHONY# c\ninclude:: ; \\\n  $$\t\na.b ?= $(p #) \t\n", RemoveLines (OfAssign None (codes "a.b")), Becomes (codes ".RECIPEPREFIX = -\n${g(}:c\\\n:\\\\\\\n%.c  %.c\n\t\\\n$(q:;=|)\\\r\n &: $(s\\)\nendef#c\nY+= a&b #c \\\n d\n\t\\\n  ::\\\n\t\\\r\nY!= a\\  \nY!=\t.PHONY# c\ninclude:: ; \\\n  $$\t\n")) ∷  -- random-251
    (codes "${c} -include2: $(s\\) %.o\t$(a b) \nexport \tY!\\\n\t\\\r\n:::=$$ \n$(p #): .PHONY $x \na: \n \ndefine \n", AddRecipe (Some 2) (codes "a") Last (codes " a"), Refused NoSuch) ∷  -- random-252
    (codes "\tifeq (a,$(b\n.PHONY : ${c}\\\n| \tb\t.PHONY  #c \\\n d\n${c}:\\\n\tfoo  $$#\\\\\\\n\n \n\t#c\ntifdef Z\nprivate -x_9\\\n\\\n:= %.o a&b \t:\nfoo: %.c\n #c \\\n d\n\tendef\nelse ifdef Q\noverride  +=  \\\\\\= \ntZ = 1\nexport private define E # c\n\tifdef Z\n", RemoveLines (OfAssign None (codes "-x_9")), Becomes (codes "\tifeq (a,$(b\n.PHONY : ${c}\\\n| \tb\t.PHONY  #c \\\n d\n${c}:\\\n\tfoo  $$#\\\\\\\n\n \n\t#c\ntifdef Z\nfoo: %.c\n #c \\\n d\n\tendef\nelse ifdef Q\noverride  +=  \\\\\\= \ntZ = 1\nexport private define E # c\n\tifdef Z\n")) ∷  -- random-253
    (codes "A ::=  a\\  \t$(p #) $(m \\\n n) \noverride endef := $  \\\\ | # \\\\\\", AddLine (BeforeVar None (codes "endef")) (NewAssign (codes "A") Conditional (codes "$(q:;=|) :")), Becomes (codes "A ::=  a\\  \t$(p #) $(m \\\n n) \nA ?= $(q:;=|) :\noverride endef := $  \\\\ | # \\\\\\")) ∷  -- random-254
    (codes ".RECIPEPREFIX = .\r\nx.o y: $(f {)\n\n\t\n\tZ = 1\r\nifdef= b #\0\r\n \\\n\t: A ::= \t%.o\t\r\n;&(\\\\\n}>\n\r\0\\define\r\nCC \t!= ; #\\\\\\\n\r\n|?\n=b\n:\r\na: c ${c}\n\techo a # b\r\n${g(} ::override := \t\r\nea\\\r\n", AddRecipe None (codes "a") Last (codes "t"), Becomes (codes ".RECIPEPREFIX = .\r\nx.o y: $(f {)\n\n\t\n\tZ = 1\r\nifdef= b #\0\r\n \\\n\t: A ::= \t%.o\t\r\n;&(\\\\\n}>\n\r\0\\define\r\nCC \t!= ; #\\\\\\\n\r\n|?\n=b\n:\r\na: c ${c}\n.t\r\n\techo a # b\r\n${g(} ::override := \t\r\nea\\\r\n")) ∷  -- random-255
    (codes ".RECIPEPREFIX = >\n\\\n# ", AddLine Bottom (NewAssign (codes "-x_9") Conditional (codes "foo")), Becomes (codes ".RECIPEPREFIX = >\n\\\n# \n-x_9 ?= foo\n")) ∷  -- random-256
    (codes "define\\\r\n?= \t \n\t \noverride\\\n\tA!=\tx.o x  y %.c \\\n \\\n # \\\n>q ::= \nprivate\n : override :::= t a| # ", RemoveLines (OfAssign (Some 4294967295) (codes "define")), Refused NoSuch) ∷  -- random-257
    (codes "override\\\n\\\nA ::=foo\\>; \r#\\\\\r\n", AddLine Bottom (NewAssign (codes "-x_9") Shell []), Becomes (codes "override\\\n\\\nA ::=foo\\>; \r#\\\\\r\n-x_9 !=\n")) ∷  -- random-258
    ([], AddLine (BeforeRule (Some 1) (codes "$(f {)")) (NewAssign (codes "override") Append (codes ": %.o")), Refused NoSuch) ∷  -- random-259
    (codes "endef#c\n\t \nendef x\n%.o  &: %.c \\\n$(f {)\t$(f {) \\\n  #\n%.c b : :a&b b $; | x.o\\\na&b \t\nfoo: -include2\n\t \n\tifdef Z\n", ChangePrereqs None (codes "%.o") (AddPrereq true (codes "$(a b)")), Becomes (codes "endef#c\n\t \nendef x\n%.o  &: %.c \\\n$(f {)\t$(f {) | $(a b) \\\n  #\n%.c b : :a&b b $; | x.o\\\na&b \t\nfoo: -include2\n\t \n\tifdef Z\n")) ∷  -- random-260
    (codes "X?\0=\\\n$endef\r\n{\t\\\n\0\n$(f {)&::$(q:;=|) $(a b)\\\r\n#c \\\n d\n# x ; y : z = 1\nprivate \\\n  >q \t=\t${u \\\n \\\n $(f {) \\\\ \nta\\\\\noverride override  CC+=  \n\t\nendef x\n", RemoveLines (OfRule None (codes "$(f {)")), Becomes (codes "X?\0=\\\n$endef\r\n{\t\\\n\0\n# x ; y : z = 1\nprivate \\\n  >q \t=\t${u \\\n \\\n $(f {) \\\\ \nta\\\\\noverride override  CC+=  \n\t\nendef x\n")) ∷  -- random-261
    (codes "\tendef\nx.o:.PHONY \\\nb #\\\\\nY ?= ; $(p #) = \t# \\\nX := $(p #) \n\t \n\tx\n\\\n$&\t%.c  :  \\\n \\\n | # \r\n${g(} &: t\tt\n", ChangeValue (One None) (codes "Y") (edits.Append (codes "foo")), Becomes (codes "\tendef\nx.o:.PHONY \\\nb #\\\\\nY ?= ; $(p #) = foo \t# \\\nX := $(p #) \n\t \n\tx\n\\\n$&\t%.c  :  \\\n \\\n | # \r\n${g(} &: t\tt\n")) ∷  -- random-262
    (codes ".RECIPEPREFIX = %\nelse ifdef Q\n\t::  define :::= \r \n${c} ${c} : : ${c} #c \\\n d\n", ChangeValue (One None) (codes "a.b") (edits.Set (codes "$(f {) \\$x")), Refused NoSuch) ∷  -- random-263
    (codes "-x_9 +=  # c\r\n$(q:;=|)&: ;\\\\ #\0\r\n", ChangeValue (One (Some 4294967295)) (codes "override") (edits.Set (codes "-include2")), Refused NoSuch) ∷  -- random-264
    (codes "\\\n# \\\n\ndefine(p #)  &: define ${g(} \n\t#\\\\\\\n\nA =| $(f {)c \n", RemoveLines (OfAssign None (codes "A")), Becomes (codes "\\\n# \\\n\ndefine(p #)  &: define ${g(} \n\t#\\\\\\\n\n")) ∷  -- random-265
    (codes "\t\r\n# c\r\n>>q\\ \\\n+=; \r\n.\\\n\r\n>Z = 1\r\nc::: ${c} \r\n.RECIPEPREFIX += $x\r\n\tZ = 1", RemoveLines (OfAssign None (codes "Z")), Refused RecipePrefix) ∷  -- random-266
    (codes "e\\\n\r\nelse:-include2 %.c;  $  a \n", RenameTarget (codes "else") (codes "c"), Refused Reserved) ∷  -- random-267
    (codes "a: \n \\\n\n.PHONY&: | $$ %.c # \\\n>t: u\n\t\n$(f {) :$(q:;=|) %.o|  ; \\\n #\\\\\\\n\n", ChangePrereqs (Some 0) (codes "a") (AddPrereq false (codes "t")), Refused NoSuch) ∷  -- random-268
    (codes ".RECIPEPREFIX = >\nifdef A\n\t\n\\\n \\\n:=}b)\\\n\nendef#c\n \n  &: override =\0\\\n\nfoo : .PHONY\\\n\t\\\r\n%.o |$(a b) \n.RECIPEPREFIX :::=\\\n:\n\\!} :==\t|\n", RemoveLines (OfAssign None (codes "\\!}")), Refused (BadArgument field.Name)) ∷  -- random-269
    (codes ">else\na: -include2  %.c\nifdef A\n", AddLine Bottom (NewAssign (codes "define") Immediate []), Becomes (codes ">else\na: -include2  %.c\nifdef A\ndefine :::=\n")) ∷  -- random-270
    (codes ".RECIPEPREFIX = X\n$(s\\) :: $= a| ;  \n$$ : \n", ChangeValue (One None) (codes ".RECIPEPREFIX") (edits.Append []), Refused (BadArgument field.Value)) ∷  -- random-271
    (codes "$(a b) : $(q:;=|)\t#c \\\n d\nt\\\n\n\n# c\r\n", AddLine (BeforeRule (Some 4294967295) (codes "$(a b)")) (NewRule (codes "${c} |d") Double (codes "$(f {) ${c}")), Refused (BadArgument field.Targets)) ∷  -- random-272
    (codes "\telse\n\t\n \n${c}:: \\\n \\\n  \n.a\\\n$(f {) &: foo :\\\n$$\\\n\t${c} ; c\n.a \\\n\tb\n\tifeq (a,$(b\nifneq\n%.c::\\\n\n.RECIPEPREFIX\\\n\t= $ $(m \\\n n) \n", AddLine (AfterVar None (codes ".RECIPEPREFIX")) (NewAssign (codes "a.b") Recursive (codes "= -include2")), Refused Reserved) ∷  -- random-273
    (codes "c: \tt ;\\\r\n= = \t\0\r\n>endif\r\n%.c:   \r\n # c\r\nfoo: t .PHONY\r\nexport .RECIPEPREFIX ?=\\\n# c\r\nA !=a\\  : #", RenameTarget (codes "foo") (codes "$(s\\)"), Refused RecipePrefix) ∷  -- random-274
    (codes "%.o :t>\\\n  $(a b)\t#c \\\n d\r\nendf # c\r\nifdef\\\nB\r\n>$x -include2 ::( a:b\t\r\n$(s\\\\\n: x.o  : $x ${g(} ${v | %.c \r\na: $(s\\)\naelse\r\n\\\n\t\r\n", RenameTarget (codes "t>") (codes "b"), Refused NoSuch) ∷  -- random-275
    (codes "foo: \n%.c&::\\\n#c \\\n d\nx.o y: .PHONY $(q:;=|)\nifdef  ::= $(s\\)\n\ta\\\r\n>b", RemoveLines (OfRecipe None (codes "x.o") (ByNumber 2)), Refused Absent) ∷  -- random-276
    (codes "#\t\\\n:\\$define=;\r\n\t\r\nay\r\r\n$(f {) :: t ${g(}\r\n\\\\\n=\r\nt::  #c \\\n d\r\n\ta\\\r\na: \n\t \r\n%.o\\\r\n${g(} : \r\n", RemoveLines (OfAssign (Some 0) (codes "$(X)")), Refused (BadArgument field.Name)) ∷  -- random-277
    (codes "define", ChangePrereqs None (codes "-include2") (RemovePrereq (codes "a&b")), Refused NoSuch) ∷  -- random-278
    (codes "x.o : $(q:;=|) \nt1+= a\\:b\\\n\\\n$(a b) \\\r\n \n\tendif\n\t#c \\\n d\n>x\n#\\\\\\\n\na: $(q:;=|)\n>t: u\n\t \n\telse\n #c \\\n d\n", ChangeValue (One None) (codes "t1") (edits.Append []), Refused (BadArgument field.Value)) ∷  -- random-279
    ([], AddLine Bottom (NewRule (codes "a&b %.o") Single (codes "t ${c}")), Becomes (codes "a&b %.o: t ${c}\n")) ∷  -- random-280
    (codes "ifdef :::= #\r\n\t\r\n}\r\n$>#\\\n&>\r{+endef\r\n$(p #) &: $(q:;=|):  | a&b\ta \n# \r\r\noverride \texport  define \\\r\n ::=c ; foo\r\n", ChangeValue (One None) (codes "define") (edits.Append (codes "1")), Becomes (codes "ifdef :::= #\r\n\t\r\n}\r\n$>#\\\n&>\r{+endef\r\n$(p #) &: $(q:;=|):  | a&b\ta \n# \r\r\noverride \texport  define \\\r\n ::=c ; foo 1\r\n")) ∷  -- random-281
    (codes "%.c : :\\\\\n &\0\r\nfoo ::t $(s\\) %.o # \r\r\n>#c\n\tifdef Z\n ", AddLine Bottom (NewRule (codes ".PHONY") Single (codes "$(f {) ${c}")), Becomes (codes "%.c : :\\\\\n &\0\r\nfoo ::t $(s\\) %.o # \r\r\n>#c\n\tifdef Z\n \n.PHONY: $(f {) ${c}\n")) ∷  -- random-282
    (codes "$x &::\\\n\tx=1 $(s\\) $(a b) \\\r\n | $(a b) #\\\\\r\n>else\r\n\t#c\r\n\t: a.b != #\\\\\\\n\r\n$(a b) %.c\t:: \r\nfoo: ${g(} x.o\no-$(a b) \\\n  += \t2 3x.o\t\\\\ \\\r\n \n\t\nendif # c\r\n\\\n$(p #) : t \\\n \\\n # \r\r\nCC \\\n  !=$\\\n \r\na: \n\\\n\t\n\techo a # b", RenameTarget (codes "x.o") (codes "$(q:;=|)"), Refused NoSuch) ∷  -- random-283
    (codes "foo: $(f {) foo\n>echo a # b\r\n$(f {): : $(s\\) $(q:;=|)  ${c} \na: ${g(}\nA::=a\\:b\\\n${g(} \n\t\\\n${g(} \t$(p #): : $x $(s\\)\nexport \\\n \\\n t1:::=  #c \\\n d\r\nta \\\n\tb\r\n", ChangeValue (One None) (codes "A") (edits.Set []), Becomes (codes "foo: $(f {) foo\n>echo a # b\r\n$(f {): : $(s\\) $(q:;=|)  ${c} \na: ${g(}\nA::=\n\t\\\n${g(} \t$(p #): : $x $(s\\)\nexport \\\n \\\n t1:::=  #c \\\n d\r\nta \\\n\tb\r\n")) ∷  -- random-284
    (codes "\t\n\\\nX != foo\n\t#\0\n-include2 &:x.o $(s\\) \n", ChangePrereqs (Some 4294967295) (codes "-include2") (RemovePrereq (codes "$(s\\)")), Refused NoSuch) ∷  -- random-285
    (codes "ifeq (a,$(b\r\na&b : : \r\n>$(\r\na : x.o  a $(s\\); \0  \r\n\t \r\na: $(f {)\n\t# \r\ne$(\nX$:?= $\\\r\n foo #\\\\\r\n$(f {) \\\r\n x.o&:\t$x\t:  ", ChangeValue (One (Some 2)) (codes "X$:") (edits.Set (codes "a&b")), Refused (BadArgument field.Name)) ∷  -- random-286
    (codes "ifdef A\n?x:Y != $ a \n${c}&::foo \ta&b $$#c \\\n d\n\t \nifdef +=\tc \\\r\n \n.RECIPEPREFIX:::=e", ChangePrereqs (Some 1) (codes "$(q:;=|)") (AddPrereq false (codes "$x")), Refused RecipePrefix) ∷  -- random-287
    (codes " endef\\\n\n$$: $(p #) a \n \\\n\nifndef X # c\n\\#x += a&b-include2#\\\\\n\t$(\nY ::=${c} #\n", AddLine Bottom (NewAssign (codes "define") Immediate (codes "$(q:;=|) x.o")), Becomes (codes " endef\\\n\n$$: $(p #) a \n \\\n\nifndef X # c\n\\#x += a&b-include2#\\\\\n\t$(\nY ::=${c} #\ndefine :::= $(q:;=|) x.o\n")) ∷  -- random-288
    (codes "$(s\\) : : b \\\n \\\n $x\\\n${c} # \r\r\nifneq\r\n\r\n\tb  foo\\\r\n&:a.b ::= ${c} .PHONY a# \r\r\n>y\r\r\n\ty\r\r\n\\\nendef\r\n \\\n\t$x x.o\t&:  foo\t\r\nY! != \\\r\n ${g(}%.o 2 3 \t\r\n", RemoveLines (OfAssign None (codes "Y!")), Refused (BadArgument field.Name)) ∷  -- random-289
    (codes "a&b : c %.o \t\n\\\n# c\n>Z = 1\n$x &:\\\r\n;  $(s\\) \\\n \\\n \na&b::: \t.PHONY \n\tx\n$(p #)&:: .PHONY x.o\\\n#\\\\", AddLine Bottom (NewAssign (codes "a.b") Immediate (codes "%.c")), Becomes (codes "a&b : c %.o \t\n\\\n# c\n>Z = 1\n$x &:\\\r\n;  $(s\\) \\\n \\\n \na&b::: \t.PHONY \n\tx\n$(p #)&:: .PHONY x.o\\\n#\\\\\na.b :::= %.c\n")) ∷  -- random-290
    (codes ">ifdef Z\n$(q:;=|)\t$(s\\) &:: \r\ndefine \r\n>else\r\n. \r\n$  $$ ::$(p #) a&b \n \\\n\t>q :::=\\\n\\\n ", AddLine (BeforeRule None (codes "$(s\\)")) (NewAssign (codes "define") Append (codes "c")), Becomes (codes ">ifdef Z\ndefine += c\n$(q:;=|)\t$(s\\) &:: \r\ndefine \r\n>else\r\n. \r\n$  $$ ::$(p #) a&b \n \\\n\t>q :::=\\\n\\\n ")) ∷  -- random-291
    (codes "+=$ \r\n\\\noverride +=\r\nA::= ", ChangeValue (One (Some 4294967295)) (codes "override") (edits.Append (codes ".PHONY")), Refused NoSuch) ∷  -- random-292
    (codes "\n$(a b)\\\n: \\\r\n ; \\\n\t\\\r\n\nx.o a ::: \t-include2 \tb \\\n.PHONY ;$x\\\n\n.RECIPEPREFIX =>\n\0\0endef+):X:X?b\r\n", RemoveLines (OfAssign None (codes ".RECIPEPREFIX")), Refused Reserved) ∷  -- random-293
    (codes "$$ b: : \\\n\t# x ; y : z = 1\n", AddLine Bottom (NewRule (codes "t") Single []), Becomes (codes "$$ b: : \\\n\t# x ; y : z = 1\nt:\n")) ∷  -- random-294
    (codes ">a\\\na: x.o $(f {)\n\tdefine Q\n override\\\n\tY :::=$(  \\# \\\n \\\n %.c  \na\\== $(s\\)\\\n\\\n${ut \\\n  \n.Z = 1\n$$\\\n::\\\n\t-include2\t\n-x_9 ::= $(m \\\n n) b\\\\\\#c \\\n d\n# x ; y : z = 1\nvpath %.c a\n", RemoveLines (OfAssign (Some 1) (codes "a\\=")), Refused (BadArgument field.Name)) ∷  -- random-295
    (codes "${c} : \\\r\n ${c} :\\\n\t\\\r\n$x \nexport define\ntendef\n #\\\\\\\n\nb :: \\\n \\\n b\t$(a b)\naZ = 1\n", AddLine (BeforeRule (Some 0) (codes "${c}")) (NewRule (codes "$(f {)") Double []), Refused NoSuch) ∷  -- random-296
    (codes "$(;=)\\:  \r\n", AddLine Bottom (NewRule (codes "b a&b") Double []), Becomes (codes "$(;=)\\:  \r\nb a&b::\r\n")) ∷  -- random-297
    (codes "\tendef\r\n${c} : :t : \t.PHONY b|\ta ${g(}\r\n\t\r\neelse\r\nendif\r\n \\\n\t$x $)c} :: %.o\td| \n\ta\\\\\n ", ChangePrereqs (Some 1) (codes "$(p #)") (RemovePrereq (codes "b")), Refused NoSuch) ∷  -- random-298
    (codes ".RECIPEPREFIX = -\n.RECIPEPREFIX =>\n\t\n$(q:;=|) : :$(f {) c  \noverride:=\\\r\n\n\\\\\n:\r\t\n  $?: a\n-x_9 =\\\\ $# a&b# c\n%.o: $x \nea \\\n\tb\na.b !=\\\n\\\n \\\r\n # \r\n", ChangeValue (One (Some 2)) (codes ".RECIPEPREFIX") (edits.Append []), Refused (BadArgument field.Value)) ∷  -- random-299
    (codes "CC:= c\r\nfoo: a\n\tt: u\r\nendef x\r\n\ta \\\n\tb\r\n$(q:;=|) ${g(}:${c}\\\r\n:${g(} -include2 t \\\n  \r\nendef#{&{&\r\na.b +=#\\\\\r\n|::  ;a&b \r\n:>q+= c \\\\", RenameTarget (codes "-include2") (codes "b"), Refused NoSuch) ∷  -- random-300
    []

answers_6 : map (λ row. outcome row.0 row.1) rows_6 ≡ map (λ row. row.2) rows_6
answers_6 = refl

abbrev rows_7 : List (List ℕ × Edit × Outcome)
rows_7 =
    (codes "undefine X\n-x_9  != \nendef ::=\\\na\\:b\nt1 \\\n!=\t\nA \t:::= 1 ${g(} \t%.c\na -include2 : :include\\\n\\\n: #\0", RemoveLines (OfAssign None (codes "-x_9")), Becomes (codes "undefine X\nendef ::=\\\na\\:b\nt1 \\\n!=\t\nA \t:::= 1 ${g(} \t%.c\na -include2 : :include\\\n\\\n: #\0")) ∷  -- random-301
    (codes " #\nb ::\t \nifeq (a,$(b\n#c \\\n d\n-include2 $$:\\\n\t\\\r\n%.c\ta .PHONY#\n\tZ = 1\n \\\n\tx.o &:$  b ${c} \t", ChangePrereqs None (codes "-include2") (RemovePrereq (codes ".PHONY")), Becomes (codes " #\nb ::\t \nifeq (a,$(b\n#c \\\n d\n-include2 $$:\\\n\t\\\r\n%.c\ta#\n\tZ = 1\n \\\n\tx.o &:$  b ${c} \t")) ∷  -- random-302
    (codes " # \\\na.b:= \\\n \\\n $ \\\n\t-include2\r\n>a\\\r\n>b\n%.c&:: foo \\\r\n $&\t$(q:;=|) |%.o a  #\\\\\\\n\r\nvpath %.c a\r\n\t\\\nCC ?= # \r\r\n", AddLine Bottom (NewAssign (codes ">q") PosixSimple (codes "foo")), Refused (BadArgument field.Name)) ∷  -- random-303
    (codes "b", AddLine (AfterVar None (codes "t1")) (NewAssign (codes ">q") Conditional (codes "%.c")), Refused (BadArgument field.Name)) ∷  -- random-304
    ([], AddLine Bottom (NewAssign (codes "t1") Immediate (codes "${c}")), Becomes (codes "t1 :::= ${c}\n")) ∷  -- random-305
    (codes "\t%.o:: .PHONY $x $(p #); x  y \\\\ a\\:b# \\\nt1 :::=  \noverride \\\n  :::= \\\n\t\n\t\n#c \\\n d\n$(p #)&: \\\n \\\n a&b $(q:;=|)  ;  #\\\\\nexport private define F \\\n\n>${c} :\\\n\t\\\r\n\\\n\\\n#\\\\\n\techo a # b\n", ChangeValue (One None) (codes "override") (edits.Set (codes "|")), Becomes (codes "\t%.o:: .PHONY $x $(p #); x  y \\\\ a\\:b# \\\nt1 :::=  \noverride \\\n  :::= \\\n\t|\n\t\n#c \\\n d\n$(p #)&: \\\n \\\n a&b $(q:;=|)  ;  #\\\\\nexport private define F \\\n\n>${c} :\\\n\t\\\r\n\\\n\\\n#\\\\\n\techo a # b\n")) ∷  -- random-306
    (codes " unexport Y\r\n$(f {)::  .PHONY \tt c \r\nt\\\n\r\nx.o y: \n\tdefine Q\ne \r\n-include2 $x: %.c \r\nCC \t?=\\\n \r\n.PHONY\\\r\n:\\\n\\\n${c} :;\\$x c ", RemoveLines (OfRecipe (Some 1) (codes "y") (ByNumber 1)), Becomes (codes " unexport Y\r\n$(f {)::  .PHONY \tt c \r\nt\\\n\r\nx.o y: \ne \r\n-include2 $x: %.c \r\nCC \t?=\\\n \r\n.PHONY\\\r\n:\\\n\\\n${c} :;\\$x c ")) ∷  -- random-307
    (codes ".RECIPEPREFIX = -\n", AddLine (BeforeVar None (codes ".RECIPEPREFIX")) (NewAssign (codes "-x_9") PosixSimple (codes ":")), Refused Reserved) ∷  -- random-308
    (codes ".RECIPEPREFIX = >\n$(a b)&:  ${c}\t${c}\t$(q:;=|) ; = \n \\\n\tendef!=\t# c\n\t", AddRecipe None (codes "$(a b)") Last (codes " a"), Becomes (codes ".RECIPEPREFIX = >\n$(a b)&:  ${c}\t${c}\t$(q:;=|) ; = \n> a\n \\\n\tendef!=\t# c\n\t")) ∷  -- random-309
    (codes "\tt  ${c}\t&::-include2  | t \r\nX?=$\\\r\n \neelse\nelse\r\n$(a b) : export >q:= .PHONY  ${u$x \\\r\n \n+ :::= a\\:b  \r\n", ChangeValue (One None) (codes "+") (edits.Append (codes "-include2")), Refused (BadArgument field.Name)) ∷  -- random-310
    (codes ".RECIPEPREFIX = >\nunexport Y\nendif # c\n\\\ndefine E # c\n> \na: ${c}\t.PHONY\n\t\nifneq\nCC\\\n\t+=  \nendef\n", AddLine (BeforeVar None (codes ".RECIPEPREFIX")) (NewRule (codes "$(p #)") Single []), Refused Reserved) ∷  -- random-311
    (codes ".RECIPEPREFIX = f\nCC\\\n\t::=$\\\r\n 2 3 \nload x\n\\\nifeq (a,$(b\naifdef Z\nc :: \\\n \\\n  \t| %.c# ", ChangeValue (One (Some 0)) (codes "CC") (edits.Set []), Refused NoSuch) ∷  -- random-312
    (codes "\techoendef # b\r\nx.o y: \r\n\t \r\n\tZ = 1\r\n$(a b)  $x:: \\\n # \r\r\nifdef=b ${c}\\\t\n\r\noverride\t::= $(a b)\r\n", ChangePrereqs (Some 1) (codes "y") (AddPrereq true (codes "$(a b)")), Becomes (codes "\techoendef # b\r\nx.o y: | $(a b) \r\n\t \r\n\tZ = 1\r\n$(a b)  $x:: \\\n # \r\r\nifdef=b ${c}\\\t\n\r\noverride\t::= $(a b)\r\n")) ∷  -- random-313
    (codes "\\\n\t\nendef\n \nb $(p #)  :: \\\n \\\n X != \r \nA !=a&b  # \r\n$(q:;=|) foo::private override !=${u$x \n>a :-include2 foo a&b | \ta \ta \n.ifdef Z\n", ChangePrereqs None (codes ">a") (AddPrereq false (codes "$(s\\)")), Becomes (codes "\\\n\t\nendef\n \nb $(p #)  :: \\\n \\\n X != \r \nA !=a&b  # \r\n$(q:;=|) foo::private override !=${u$x \n>a :-include2 foo a&b $(s\\) | \ta \ta \n.ifdef Z\n")) ∷  -- random-314
    (codes "define", AddLine Bottom (NewRule (codes "a:b") Single []), Refused (BadArgument field.Targets)) ∷  -- random-315
    (codes "\t\r\n\ta&b: \t%.c \r\n\texport  ifdef := $# \r\n \\\n\t$(s\\):: t \\\n  : ${g(}|%.c\t\r\nCC!=t${g(}\r\n: $\n(+\r\n\tZ = 1\r\n=define::>define\\\n\r\n", ChangeValue (One (Some 0)) (codes "CC") (edits.Set (codes "$(p #)")), Refused NoSuch) ∷  -- random-316
    (codes "ifdef A\r\n :: X :=\\\n\\\n\\\n\t# \\\r\nendef::= a\\  \na: $x\t$(q:;=|)\n\tendif\r\n$(s\\) \\\r\n $(a b) : Y != \\\n  ;-include2 #c \\\n d\r\nfoo: \nendif\n\tx\r\n", ChangeValue (One None) (codes ">q") (edits.Set (codes "$(f {)")), Refused (BadArgument field.Name)) ∷  -- random-317
    (codes "$; :: b \t%.c  c \\\n  #\\\\\\\n\r\nx.o y: -include2\n\ta\\\\\naelse\n\\\n# c\r\na: c\r\n\tZ = 1\r\n-include2:  ; \\\n \\\n %.o ${g(} $(  \r\n\t#c\r\nfoo: a&b $x\n>$(\nendif # c\n\ty\r\r\n", RenameTarget (codes "$x") (codes "x.o"), Refused NoSuch) ∷  -- random-318
    (codes ".RECIPEPREFIX = X\nfoo: \na.b?= $(q:;=|)\nA += $\\\n  \n\\\nelse\n$(f {) $(p ):define?= :\\\r\n$x \tfoo\nifndef X # c\n\t$(f {):\\ \\\n.PHONY\t$$ | ${c} t \n", ChangeValue (One None) (codes ".RECIPEPREFIX") (edits.Set (codes "\\# 2 3")), Refused Reserved) ∷  -- random-319
    (codes ".RECIPEPREFIX =  \\\n\n", ChangeValue (One (Some 4294967295)) (codes ".RECIPEPREFIX") (edits.Set []), Refused Reserved) ∷  -- random-320
    (codes "ty\r", AddLine Bottom (NewAssign (codes "A") Recursive (codes "-include2")), Refused OpenLine) ∷  -- random-321
    (codes ".REC=PEPRIX  d\nexport \\\nA ::=\n.\\\n\no-$(a b):::=  #\0", RemoveLines (OfAssign (Some 2) (codes "A")), Refused NoSuch) ∷  -- random-322
    (codes "#\\\\\na.b += a\\  $(p #) \r\nx.o y: \n\t\\\n\n>a\\\r\n>b\nendif\r\n\\\n\t\r\nifneq\r\noverride define E # c\n", SetRecipe None (codes "x.o") (ByNumber 1) (codes ">"), Becomes (codes "#\\\\\na.b += a\\  $(p #) \r\nx.o y: \n\t>\n>a\\\r\n>b\nendif\r\n\\\n\t\r\nifneq\r\noverride define E # c\n")) ∷  -- random-323
    (codes "# \r\na: $x \\\n \\\n :x.o\n.endif\n\t#c\n\\\n\t\\ ", RemoveLines (OfRecipe None (codes "a") (ByNumber 2)), Refused Absent) ∷  -- random-324
    (codes ".RECIPEPREFIX = %\n\\\n$(p #)&: \\\n|\r\n\t\r\nendef\n|\n>a\\\r\n>b\r\n\r\n>a \\\n\tb\n${g(} -include2: :$; |x.o $(f {) ;  # c\r\n\n", ChangePrereqs None (codes "$(p #)") (AddPrereq true (codes "$(f {)")), Becomes (codes ".RECIPEPREFIX = %\n\\\n$(p #)&: \\\n| $(f {)\r\n\t\r\nendef\n|\n>a\\\r\n>b\r\n\r\n>a \\\n\tb\n${g(} -include2: :$; |x.o $(f {) ;  # c\r\n\n")) ∷  -- random-325
    (codes "\t\\\n-include2 : : $$ \r\n", AddLine Bottom (NewAssign (codes "e") Simple []), Becomes (codes "\t\\\n-include2 : : $$ \r\ne :=\n")) ∷  -- random-326
    (codes ".RECIPEPREFIX = $$\n \\\n\tifdef\\\nB\nfoo: ${c} ${c}\n>else\nendif # c\n>$(\n-include b c\n\t\\\nifdef A", ChangeValue (One None) (codes ".RECIPEPREFIX") (edits.Append (codes ".PHONY |")), Refused Reserved) ∷  -- random-327
    (codes "define E # c\n &:CC :::= \\\n  #c \\\n d\na : b a ;$(a b): \n.RECIPEPREFIX= # c\r\n${c}:$(f {) \\\n \\\n %.o \n(:\\\\\n\r\nx.o y: \n\t \n\t \r\na: \nendif\n.a\\\r\n>b\n", AddLine Bottom (NewAssign (codes "ifdef") Shell []), Refused OpenDefine) ∷  -- random-328
    (codes "$(q:;=|) %.c: .PHONY x.o $(p #)\t\ntx\na: a&b\neecho a # b\n-x_9 ?=1\\\n\\\n$\\\n  $(w \\\n\n\tZ = 1\n #c \\\n d\n${g(}\tt:$x : \\\n |\\\r\n ; \\\n \\\n \\\\ 1 \\\n$(s\\)\\\n\t#\\\\\n \n${g(}: $$ $(a b) | \n", RemoveLines (OfRule None (codes "$(q:;=|)")), Refused (SharedRule 2)) ∷  -- random-329
    (codes "a: $(f {)\nt&::$x\nY!+=$(q:;=|) $# \t\n>q != \\\n \n\ta\\\n\t \n \n", ChangePrereqs (Some 1) (codes "t") (RemovePrereq (codes "$x")), Becomes (codes "a: $(f {)\nt&::\nY!+=$(q:;=|) $# \t\n>q != \\\n \n\ta\\\n\t \n \n")) ∷  -- random-330
    (codes "$(a b) $$ : \\\r\n?  |a #\r\nb ::t : -include2 \t$$\\\r\n${c}#\\\\\nx.o y: a&b $(p #)", ChangePrereqs None (codes "y") (RemovePrereq (codes "a&b")), Becomes (codes "$(a b) $$ : \\\r\n?  |a #\r\nb ::t : -include2 \t$$\\\r\n${c}#\\\\\nx.o y: $(p #)")) ∷  -- random-331
    (codes "ifdef \\\r\n ?=\\\r\n$$ \n\tZ 1\n\\\\\n \\\n=\nendef\\\n> \\\n\n\t\\\nX \\\n \\\n += \rg(}\\ \\\na\\:b  #\0\r\n $x: \\\n \\\n c \t\r\n\t\\\nfoo  $(s\\):\\\nendef +=  foo\\\n# c\r\na: t\\\n\\\n$(a b)", ChangeValue (One None) (codes "ifdef") (edits.Append (codes "t")), Becomes (codes "ifdef \\\r\n ?=\\\r\n$$ t \n\tZ 1\n\\\\\n \\\n=\nendef\\\n> \\\n\n\t\\\nX \\\n \\\n += \rg(}\\ \\\na\\:b  #\0\r\n $x: \\\n \\\n c \t\r\n\t\\\nfoo  $(s\\):\\\nendef +=  foo\\\n# c\r\na: t\\\n\\\n$(a b)")) ∷  -- random-332
    (codes " #\nvpath %.c a\n$x &:%.o  %.c \\\n$x  | %.c\ta&b \nifdef=  \n \\\n\t$$:  $$ # x ; y : z = 1\n$x: :  \n>q ::=  \n", ChangeValue (One None) (codes ">q") (edits.Append (codes "2 3")), Refused (BadArgument field.Name)) ∷  -- random-333
    (codes "\\\n|", AddLine Bottom (NewRule (codes "${g(}") Single (codes "c foo")), Becomes (codes "\\\n|\n${g(}: c foo\n")) ∷  -- random-334
    (codes "\r\n::\tifdef \\\n \\\n :::= ${ua\\ \\\r\n$(#\\\\\\\n\r\n\ty\r\n\ta\\\r\n>b\nx.o y: $(f {) \\\nc\n \\\n\n\\\n\t", SetRecipe (Some 2) (codes "x.o") (ByNumber 0) (codes ">"), Refused NoSuch) ∷  -- random-335
    (codes "-x_9 += $$ \n$(f +{) ::  \n\ta \\\n\tb\n\t#c\n=define\nendef\\\r\n:= $\\\n\n ", RemoveLines (OfRule (Some 4294967295) (codes "$(f +{)")), Refused NoSuch) ∷  -- random-336
    (codes "foo: b\t$(f {)\n\t\\\n\r\n\\\nendif # c\nendif\r\n$| &: \tX \\\n= \r\n\\\nifdef := \r\n-include b c\r\n", RenameTarget (codes "foo") (codes "$(s\\)"), Becomes (codes "$(s\\): b\t$(f {)\n\t\\\n\r\n\\\nendif # c\nendif\r\n$| &: \tX \\\n= \r\n\\\nifdef := \r\n-include b c\r\n")) ∷  -- random-337
    (codes "a.b +=  \t#c \\\n d\nifneq\nprivate  a.b\t+= %.o a\\\n#\n \\\n\t$(a b)::: foo ${g(}\t%.c\n\tZ = 1\n\tifdef Z\na: $x b\nifeq (a,$(b\nt1 :::=  # c\n\t\ntecho a # b\n\ta \\\n\tb\nelse\n\ta&b : ${g(}\tb ; $ ", RenameTarget (codes "$x") (codes "$(a b)"), Refused NoSuch) ∷  -- random-338
    (codes "c : $(s\\)  t\\\r\n-include2; \\\\\n\tendef\n\tZ = 1\n ${c}:\\\n\t\\\r\n # c\n\ta\\\n \\\n\tendif\n : +=  \nx.o y: b\n\t\\\n\n", AddRecipe None (codes "x.o") Last (codes "$("), Becomes (codes "c : $(s\\)  t\\\r\n-include2; \\\\\n\tendef\n\tZ = 1\n ${c}:\\\n\t\\\r\n # c\n\ta\\\n \\\n\tendif\n : +=  \nx.o y: b\n\t\\\n\n\t$(\r\n")) ∷  -- random-339
    (codes "\t$(\r\nA+=a\\:b -include2\r\n$(q:;=|):\\\n%.o \\# t \r\n\t\\\n\r\n$(a b)\\\r\n$(a b) : $x\t\r\n", ChangePrereqs None (codes "a&b") (AddPrereq true (codes "a")), Refused NoSuch) ∷  -- random-340
    (codes "endef\r\n$(s\\): $(a b) \r\n \\\n\t$(s\\):%.c ${c} \n>ifdef Z\r\nA!= ; \r\nA ?=$(m \\\n n)%.c t# x ; y : z = 1\n\t\\\nifdef \\\n= \\\n \\\n $(q:;=|)$(q:;=|) \n-include2  %.c\\\n\t\\\r\n:: a.b!= x  y =\n", AddLine (AfterVar (Some 1) (codes "A")) (NewRule (codes "a&b") Single []), Becomes (codes "endef\r\n$(s\\): $(a b) \r\n \\\n\t$(s\\):%.c ${c} \n>ifdef Z\r\nA!= ; \r\na&b:\r\nA ?=$(m \\\n n)%.c t# x ; y : z = 1\n\t\\\nifdef \\\n= \\\n \\\n $(q:;=|)$(q:;=|) \n-include2  %.c\\\n\t\\\r\n:: a.b!= x  y =\n")) ∷  -- random-341
    (codes "foo &: a&b $(f {) $(s\\) \n.RECIPEPREFIX!= \\$x \na: foo\ta&b\n>#c\n\tifdef Z\n>#c\n\ty\r\nifdef\\\nB\n", AddRecipe None (codes "a") Last (codes "\tb"), Refused RecipePrefix) ∷  -- random-342
    (codes "x.o &:%.o  %.o\\\n\r=", AddLine (BeforeVar (Some 4294967295) (codes "ifdef")) (NewRule (codes "${c} ${c}") Single (codes "$(f {) $(a b)")), Refused NoSuch) ∷  -- random-343
    (codes "$(q:;=|): : \t$(p #)  ${g(}\n\t\r\n)\r\nt1 = #c \\\n d\n\t\\\n$(u %.c \\\n: Y ::= \r\nifeq (a,$(b\nCC  != x  y $(f {)# \\\nx.o y: %.o\t$(q:;=|)\n>ifdef Z\nendif # c\n", ChangeValue (One (Some 1)) (codes "CC") (edits.Append (codes "a")), Becomes (codes "$(q:;=|): : \t$(p #)  ${g(}\n\t\r\n)\r\nt1 = #c \\\n d\n\t\\\n$(u %.c \\\n: Y ::= \r\nifeq (a,$(b\nCC  != x  y $(f {) a# \\\nx.o y: %.o\t$(q:;=|)\n>ifdef Z\nendif # c\n")) ∷  -- random-344
    (codes "\\\nendif\n#\\\\\r\nta \\\n\tb\\\n\nifeq (a,$(b\n.RECIPEPREFIX =$x\n# x ;:y : z = 1\r\na: \n\ta\\\r\n>b\n\telse\n>else", ChangePrereqs None (codes "a") (RemovePrereq (codes "${c}")), Refused RecipePrefix) ∷  -- random-345
    (codes "override undefine X\r\n\techo a # b\r\n>define Q\r\n.PHONY::: $(f {) .PHONY \r\nifeq (a,$(b\r\nY = -include2; $(w \\\n #\r\n.PHONY &::$(s\\) b $(a b) | b ; b 2 3 x.o\\\n\t", SetRecipe (Some 4294967295) (codes ".PHONY") (ByNumber 0) (codes "e f \\ g"), Refused NoSuch) ∷  -- random-346
    (codes ".RECIPEPREFIX = >\nendef#c\n\ta\\\r\n>b\n$$ $(q:;=|) ::: # x ; y : z = 1\n=define&\r\ndefine=\\\n-include2 :%.o\n.RECIPEPREFIX= .\n\ta: $(q:;=|)\\\n\\\n%.o\t\nelse ifdef Q\nA := \n", ChangeValue (One (Some 1)) (codes ".RECIPEPREFIX") (edits.Set (codes "\\#")), Refused Reserved) ∷  -- random-347
    (codes "$\t \tfoo:${c} : -include2\\\n\t\\\r\nx.o \tx.o| $(a b) \ndefine \neecho a # b\n-x_9 :::= x  y\\\n\\\na&b$x \nA:::= \\\na&b${g(}\\\n\t\\\r\n# \r\n# \r\n${g(}: \\\na\t$(s\\) \t\n\t\\\nt:: \n\t#c \\\n d\n", AddLine Bottom (NewRule (codes "$$") Single (codes "-include2")), Refused OpenDefine) ∷  -- random-348
    (codes ".ifdef Z\n : Y?= a\\ \\\\\\ \nt&:: %.c:| \\\n\n.RECIPEPREFIX = >>\n-x_9 :::= \n", ChangeValue (One None) (codes "-x_9") (edits.Set (codes "2 3")), Becomes (codes ".ifdef Z\n : Y?= a\\ \\\\\\ \nt&:: %.c:| \\\n\n.RECIPEPREFIX = >>\n-x_9 :::= 2 3\n")) ∷  -- random-349
    (codes "ax\n$c} \t$(q:;=|): $(f {) |$$ ; \0 #\na: \n\t \n>$(\n# x ; y : z = 1\r\n", ChangePrereqs None (codes "|") (AddPrereq false (codes "%.c")), Refused (BadArgument field.Target)) ∷  -- random-350
    []

answers_7 : map (λ row. outcome row.0 row.1) rows_7 ≡ map (λ row. row.2) rows_7
answers_7 = refl

abbrev rows_8 : List (List ℕ × Edit × Outcome)
rows_8 =
    (codes "\ta\\\\\r\n\t\\\nX::=$x \t#\0\r\nX ?=  \\\r\n \nifdef!= ${c} # x ; y : z = 1\r\n-include2&::\tx.o ; \t\\ #\\\\\nifdef\\\nB\r\n", RemoveLines (OfRule None (codes "-include2")), Becomes (codes "\ta\\\\\r\n\t\\\nX::=$x \t#\0\r\nX ?=  \\\r\n \nifdef!= ${c} # x ; y : z = 1\r\nifdef\\\nB\r\n")) ∷  -- random-351
    (codes "ifdef= $(p #) #\\\\\\\n\r\ntt: u\r\n%.c\t$(s\\) : $(q:;=|)\\\n\tfoo  a&b\\\n\t\\\r\n\n$(s\\)&:: \\\n\\\n\r\nta\\\\\r\nexport .RECIPEPREFIX ::= \\x\n${g(} : $x  b \r\n\n.RECIPEPREFIX=>\r\n", RemoveLines (OfAssign (Some 1) (codes ".RECIPEPREFIX")), Refused Reserved) ∷  -- random-352
    (codes ".RECIPEPREFIX = f\r\ndefine ?= \\\n%.c $(p #) %.c\\\n\t\\\r\n\r\n$b\\\\\n\t\\\nfoo: a&b\n\telse\n\tt: u\r\n\tZ = 1\r\n", ChangePrereqs None (codes "t") (AddPrereq true (codes "a")), Becomes (codes ".RECIPEPREFIX = f\r\ndefine ?= \\\n%.c $(p #) %.c\\\n\t\\\r\n\r\n$b\\\\\n\t\\\nfoo: a&b\n\telse\n\tt: u | a\r\n\tZ = 1\r\n")) ∷  -- random-353
    (codes "override t1 \\\n \\\n = \\\n \\\n $x\\\r\n\n", AddLine (AfterVar (Some 4294967295) (codes "t1")) (NewAssign (codes "define") Append []), Refused NoSuch) ∷  -- random-354
    (codes ".RECIPEPREFIX = >\n$x\\\n\\\n:\r\nelse ifdef Q\nifdef\\\n\t\\\r\n!=  # c\n$x: $(p #) :-include2 \\\n$x \r\na$(\n\telse\r\nfoo: $(p #) $(a b)\n>endef", ChangeValue (One None) (codes "CC") (edits.Append []), Refused (BadArgument field.Value)) ∷  -- random-355
    (codes "e\nnde\r\n", AddLine Bottom (NewAssign (codes "CC") Simple (codes "2 3")), Becomes (codes "e\nnde\r\nCC := 2 3\n")) ∷  -- random-356
    (codes "%.) : $(s\\})\\\n\t\\\r\n: #( \\\r\n $x:a define ?=$($\\\n \r\n\t\r\n\tt: u\r\n", ChangePrereqs None (codes "%.)") (AddPrereq true (codes "$(q:;=|)")), Becomes (codes "%.) : $(s\\})\\\n\t\\\r\n: | $(q:;=|) #( \\\r\n $x:a define ?=$($\\\n \r\n\t\r\n\tt: u\r\n")) ∷  -- random-357
    (codes ".RECIPEXPREFIX = %\r\n\\\ninclude a\r\nifdef = : c.PHONY \n\\\n\t\r\nt: foo\t${g(} \t|t\\\n\\\n; $(a b) \n$(a b): \\\n  ; $x \r\n${g(}: c\t\r\nvpath %.c a\ndefineendef>\\\\\n\n# c\r\n", ChangePrereqs None (codes "${g(}") (RemovePrereq (codes "c")), Becomes (codes ".RECIPEXPREFIX = %\r\n\\\ninclude a\r\nifdef = : c.PHONY \n\\\n\t\r\nt: foo\t${g(} \t|t\\\n\\\n; $(a b) \n$(a b): \\\n  ; $x \r\n${g(}:\t\r\nvpath %.c a\ndefineendef>\\\\\n\n# c\r\n")) ∷  -- random-358
    (codes "override?\\\n= \\\r\n x.o \\\r\n #\0\r\nea\\\\\r\ntendef\r\n\\\n# c", AddLine Bottom (NewRule (codes "b") Double (codes "b")), Becomes (codes "override?\\\n= \\\r\n x.o \\\r\n #\0\r\nea\\\\\r\ntendef\r\n\\\n# c\nb:: b\n")) ∷  -- random-359
    (codes ".RECIPEPREFIX = %", AddLine (AfterVar None (codes ".RECIPEPREFIX")) (NewAssign (codes "define") Append []), Refused Reserved) ∷  -- random-360
    (codes "else ifdef Q\n\t\\\na\\= :=#\\\\\\\n\nc\tb  &: x.o :c \\\n${g(} \naelse\na: a&b\n\t#\\\\\nifdef A", AddRecipe None (codes "a") Last (codes "t"), Becomes (codes "else ifdef Q\n\t\\\na\\= :=#\\\\\\\n\nc\tb  &: x.o :c \\\n${g(} \naelse\na: a&b\n\t#\\\\\n\tt\nifdef A")) ∷  -- random-361
    (codes ".RECIPEPREFIX = :\n \\\n\t &:\tCC += %.c $(a b)\r\n\ta \\\n\tb\r\n>$$ &: $(p #)\t: \t |a;  \n.Z = 1\n\tifdef Z\n.RECIPEPREFIX=\r\nt : : t x.o x.o | \t \t# \r", ChangeValue (One (Some 1)) (codes ".RECIPEPREFIX") (edits.Set (codes "$$")), Refused Reserved) ∷  -- random-362
    (codes "else\n\\\nendif\n\t# x ; y : z = 1\n.define Q\n$(a b)&: \tc\\\n\\\n: ${c} $(q:;=|) \na :\\\r\n$(p #) t| $$\n$(a b) &::b $x |%.o  \n${g(}: foo\n", AddLine (BeforeRule None (codes "${g(}")) (NewRule (codes "foo t") Single (codes "t $(a b)")), Becomes (codes "else\n\\\nendif\n\t# x ; y : z = 1\n.define Q\n$(a b)&: \tc\\\n\\\n: ${c} $(q:;=|) \na :\\\r\n$(p #) t| $$\n$(a b) &::b $x |%.o  \nfoo t: t $(a b)\n${g(}: foo\n")) ∷  -- random-363
    (codes "$(f {) $(a b) : \\\n$$  :\\\n\t%.o $(q:;=|)  t\\\n# \\\n\r)\\\n\r\n\r\n\t\r\n\tendef\r\n\ta\\\\\n\ta\\\n", AddLine Bottom (NewRule (codes "$(a b)") Double []), Refused OpenLine) ∷  -- random-364
    (codes "override undefine X\n\\\na: : $x\t-include2  a&b \t|  \n\na&b : \t$(s\\) : a  a&b \t-include2 #\\\\", RemoveLines (OfRecipe None (codes "a&b") (ByNumber 2)), Refused Absent) ∷  -- random-365
    (codes "endef\\\n\nX = $(a b)$(s\\) \0 #c \\\n d\n%.o\\\n: -include2 | \\\n${c}# \r\nundefine X\nCC := %.o #\\\\\\\n\n;define\r\n\0&a\\\\\n>\0\n ${g(}: x.o foo  a&b\\\n#\n$\0}\\endefX\n>ifdef Z", ChangePrereqs None (codes "%.o") (RemovePrereq (codes "${c}")), Becomes (codes "endef\\\n\nX = $(a b)$(s\\) \0 #c \\\n d\n%.o\\\n: -include2 |# \r\nundefine X\nCC := %.o #\\\\\\\n\n;define\r\n\0&a\\\\\n>\0\n ${g(}: x.o foo  a&b\\\n#\n$\0}\\endefX\n>ifdef Z")) ∷  -- random-366
    (codes ".RECIPEPREFIX = i\nc :: $$  foo\n>\\\n\n>Z = 1\n$(f {) &::.PHONY | t \\\r\n \na\\= ::= $\\\n \tt \\\n \\\n # \\\n", AddRecipe None (codes "$(q:;=|)") Last (codes "q:=1"), Refused NoSuch) ∷  -- random-367
    (codes ">ifdef Z\n>$(s\\): t  t x.o \\\n \\\n #\0\n-include2\\\n\\\n: a&b \t\\\n $; \n\t$(\n\ta\\\r\n>b", RemoveLines (OfRule (Some 2) (codes "-include2")), Refused NoSuch) ∷  -- random-368
    (codes ".RECIPEPREFIX = i\n : Y \t+= $#\n\ta\\\n\tendef\nCC\\\n\t!= $(s\\) foo \n", ChangeValue (One None) (codes "CC") (edits.Set (codes "%.o %.c")), Becomes (codes ".RECIPEPREFIX = i\n : Y \t+= $#\n\ta\\\n\tendef\nCC\\\n\t!= %.o %.c \n")) ∷  -- random-369
    (codes "%.c:-include2 %.c %.c |\\\r\n${g(}\\\r\n${c}\t# c\r\n{foo : \\\n  x.o  : $; \\\n  |  \n\telse\r\n\r\n =!\\\\\n\r\n\t::private >q ::=\\\n\t${g(}# c\r\n#\\\\\na.b \\\n+=\r $  $# # \\\n-include b c\n\\ b  &:  \n$$ ::\\\n\tx.o $(s\\) $x#c \\\n d\n", RenameTarget (codes "$(s\\)") (codes "%.o"), Refused NoSuch) ∷  -- random-370
    (codes ".RECIPEPREFIX = d\n$(f {)  &:\\\n$$ ${g(} \tb # x ; y : z = 1\n.RECIPEPREFIX =\n\tdefine Q\n", RenameTarget (codes "${g(}") (codes "$(f {)"), Refused NoSuch) ∷  -- random-371
    (codes "a: %.c\t${c}\n \n\ntdefine Q\n : \tCC ?= \0 $$ #\\\\\nb|;?=>?\nc :${c} $(f {) | \\\n  -include2\tfoo \n${c} :-x_9\\\n\t:=  #\nifndef X # c\nifdef A", AddRecipe None (codes "c") Last (codes "t"), Becomes (codes "a: %.c\t${c}\n \n\ntdefine Q\n : \tCC ?= \0 $$ #\\\\\nb|;?=>?\nc :${c} $(f {) | \\\n  -include2\tfoo \n\tt\n${c} :-x_9\\\n\t:=  #\nifndef X # c\nifdef A")) ∷  -- random-372
    (codes "X!= %.c \r\nfoo\t-include2 :>q+= \r \\\n  $$\\\r\nc \r\n\tdefine Q\nCC  = a \nx.o y: %.o\r\n", RemoveLines (OfAssign None (codes "X")), Becomes (codes "foo\t-include2 :>q+= \r \\\n  $$\\\r\nc \r\n\tdefine Q\nCC  = a \nx.o y: %.o\r\n")) ∷  -- random-373
    (codes "a|\\\n\n}\r\nprivate\r\n", AddLine Bottom (NewAssign (codes ">q") Shell (codes "%.c")), Refused (BadArgument field.Name)) ∷  -- random-374
    (codes "a&b &: c :  \r\n>\n? $+\t\r{= \r\neelse\r\n&\r\n\r\n b &:  $|\\\r\n:$(f {) \r\n", AddLine Bottom (NewRule (codes "t") Single (codes "$(p #) b")), Becomes (codes "a&b &: c :  \r\n>\n? $+\t\r{= \r\neelse\r\n&\r\n\r\n b &:  $|\\\r\n:$(f {) \r\nt: $(p #) b\r\n")) ∷  -- random-375
    (codes "b :$x\t$(q:;=|) b \n\ty\r\na\\= != :\\\r\na\\ \\\\ \n", ChangePrereqs None (codes "b") (AddPrereq false (codes "$$")), Becomes (codes "b :$x\t$(q:;=|) b $$ \n\ty\r\na\\= != :\\\r\na\\ \\\\ \n")) ∷  -- random-376
    (codes "$(s\\)&:: foo:\\\n\t\\\r\n \r\n.PHONY :%.o \t$(a b) $(f {) \r\n\techo a # b\r\na a::Y :::= $ \\$x\tx  y # x ; y : z = 1\r\ndefine D\r\n=:\n}\n&;|{;\0#\r\nendef:=\tx  y %.o\r\n${c}:\t ; $(f {) \n\ty\r", ChangePrereqs None (codes ".PHONY") (AddPrereq false (codes ".PHONY")), Becomes (codes "$(s\\)&:: foo:\\\n\t\\\r\n \r\n.PHONY :%.o \t$(a b) $(f {) .PHONY \r\n\techo a # b\r\na a::Y :::= $ \\$x\tx  y # x ; y : z = 1\r\ndefine D\r\n=:\n}\n&;|{;\0#\r\nendef:=\tx  y %.o\r\n${c}:\t ; $(f {) \n\ty\r")) ∷  -- random-377
    (codes "define .RECIPEPREFIX\na.b :::=   \nfoo :: + ?=$\\\r\n\\\n\t\\\r\n${c} \n%.c &: $(s\\);\r\n", AddLine Bottom (NewAssign (codes "e") PosixSimple []), Refused RecipePrefix) ∷  -- random-378
    (codes "endif # c\r\na .PHONY &: $(f {) \t$(f {) # c\r\n$(a b): t |$(a b) \r\n.PHONY : .PHONY\\\r\n: %.o $x ${c}| $(a b)\r\n|d :: $x $(f {) | $(q:;=|) \r\nifdef A\r\n", AddLine (BeforeRule None (codes ".PHONY")) (NewRule (codes "b $;") Single []), Becomes (codes "endif # c\r\nb $;:\r\na .PHONY &: $(f {) \t$(f {) # c\r\n$(a b): t |$(a b) \r\n.PHONY : .PHONY\\\r\n: %.o $x ${c}| $(a b)\r\n|d :: $x $(f {) | $(q:;=|) \r\nifdef A\r\n")) ∷  -- random-379
    (codes "\0=&X\n\n\tt: u\nCC:= $(s\\)  .PHONY \\\n$\\\r\n # c\n-x_9 !=\\# \n#\r\n>\n$$: include  $(p #) -include2 \\\r\n | ${g(} #\0", RemoveLines (OfAssign None (codes "CC")), Becomes (codes "\0=&X\n\n\tt: u\n-x_9 !=\\# \n#\r\n>\n$$: include  $(p #) -include2 \\\r\n | ${g(} #\0")) ∷  -- random-380
    (codes "#=\t\\\na\t\\\n\\\nendef\r\n\t\r\n\ta\\\r\n>b\r\nifneq\r\n>override X\r\n \\\n::\\\n\t\\\r\n \r\n$\n\r\n\t\r\n", AddLine Bottom (NewAssign (codes "a.b") Recursive (codes "$(p #)")), Becomes (codes "#=\t\\\na\t\\\n\\\nendef\r\n\t\r\n\ta\\\r\n>b\r\nifneq\r\n>override X\r\n \\\n::\\\n\t\\\r\n \r\n$\n\r\n\t\r\na.b = $(p #)\n")) ∷  -- random-381
    (codes "-x_9 ::= a&b \0 $(f {) \r\n \r\n${c}\ta &:$(f {) $$ $(s\\) \t\na \t: $(p #); \tx  y \\\n\r\na.b  ?=$(q:;=|) \\$x # \r\r\nfoo:${c}:   |  \r\n${c} : :\t%.c\t%.c \n", ChangePrereqs None (codes "foo") (RemovePrereq (codes "$(p #)")), Refused Absent) ∷  -- random-382
    (codes ".PHONY:: \\\n \\\n \\\n\t\\\r\n# c\n", AddLine Bottom (NewRule (codes "a:b") Double (codes "$(q:;=|) .PHONY")), Refused (BadArgument field.Targets)) ∷  -- random-383
    (codes "a: \nb!\n\\\\\n$!+=)\0$endef\nY +=; 2 3 $(w \\\n \n\tZ = 1\n", AddRecipe None (codes "a") Last [], Becomes (codes "a: \n\t\nb!\n\\\\\n$!+=)\0$endef\nY +=; 2 3 $(w \\\n \n\tZ = 1\n")) ∷  -- random-384
    (codes "${c} : -x_9 ::= 2 3 \nx.o y: \nifndef X # c\n", AddLine Bottom (NewRule (codes "x.o") Double (codes "-include2")), Becomes (codes "${c} : -x_9 ::= 2 3 \nx.o y: \nifndef X # c\nx.o:: -include2\n")) ∷  -- random-385
    (codes ".RECIPEPREFIX = .\n\tA :::=$(m \\\n n) \\\n=$(s\\)#\\\\\n\t#\\\\\n>define Q\n\n\\\n+)+\r(\r\n\0\n", AddLine Bottom (NewAssign (codes "t") Conditional (codes "$(a b)")), Becomes (codes ".RECIPEPREFIX = .\n\tA :::=$(m \\\n n) \\\n=$(s\\)#\\\\\n\t#\\\\\n>define Q\n\n\\\n+)+\r(\r\n\0\nt ?= $(a b)\n")) ∷  -- random-386
    (codes "\tendif\r\ntt: u\r\n \\\n\t$(a b)  &: x.o : a&b\t$x | \t# \r\r\n>$(p #) :::\t$(f {) \\\n \\\n $(f {)| $& $$;$($#%.o \r\n", RemoveLines (OfRule None (codes "tt")), Becomes (codes "\tendif\r\n \\\n\t$(a b)  &: x.o : a&b\t$x | \t# \r\r\n>$(p #) :::\t$(f {) \\\n \\\n $(f {)| $& $$;$($#%.o \r\n")) ∷  -- random-387
    (codes "$(s\\) &:\\\n\\\n;\t\r \nendif\n", AddLine (BeforeRule None (codes "c")) (NewRule (codes "c") Double (codes "$$")), Refused NoSuch) ∷  -- random-388
    ([], AddRecipe (Some 0) (codes "else") Last (codes "x"), Refused Reserved) ∷  -- random-389
    (codes ".RECIPEPREFIX = d\n${g(}: a %.o \tfoo # c\n\tdefine Q\n\ta \\\n\tb\n\n", ChangePrereqs None (codes "${g(}") (AddPrereq true (codes "$\t")), Refused (BadArgument field.Word)) ∷  -- random-390
    (codes "$(s\\) &: A += \\ \r\n$(a b)&:: $x c \\\n\r\nX+=a\\  $\\\n   c \r\n#\0\r\n$$:\r t : $(p #) $x .PHONY; $(a b) \r\n$(f {) b&:\\\n\tt \tt $$# \r\r\n>echo a # b\r\nendef\\\n\r\n$(q:;=|): : \\\n \\) b \r\n", RemoveLines (OfRule None (codes "$(a b)")), Becomes (codes "$(s\\) &: A += \\ \r\nX+=a\\  $\\\n   c \r\n#\0\r\n$$:\r t : $(p #) $x .PHONY; $(a b) \r\n$(f {) b&:\\\n\tt \tt $$# \r\r\n>echo a # b\r\nendef\\\n\r\n$(q:;=|): : \\\n \\) b \r\n")) ∷  -- random-391
    (codes ".RECIPEPREFIX = f\r\n \r\n!(>+\r\n>endif\r\nendef := ${c}#\0\r\nb&: a \t.PHONY |\\\n\\\nx.o \\\r\r\n \r\n", AddLine Bottom (NewAssign (codes ">q") Append (codes "$$")), Refused (BadArgument field.Name)) ∷  -- random-392
    (codes " : -x_9 :::= \\\n$$ 2 3 | \n.RECIP\rEPREFIX::=\\\n>\n\tZ = 1\n", AddLine (AfterVar None (codes "endef")) (NewRule (codes "foo") Single (codes "$(q:;=|) %.o")), Refused NoSuch) ∷  -- random-393
    (codes ".RECIPEPREFIX = $$\n$$::: foo \n", AddLine (BeforeVar (Some 4294967295) (codes ".RECIPEPREFIX")) (NewAssign (codes "e") Append (codes "${c}")), Refused Reserved) ∷  -- random-394
    (codes "\\#x:= a\\  \n$x::  $x:$x  ${g(} x.o |\na: b\\\n\\\nfoo\n#\\\\\n\t$(\n \\\n\nfoo &:: \tc \\\n$x #\0\n", ChangeValue (One None) (codes "\\#x") (edits.Append (codes "%.o")), Refused (BadArgument field.Name)) ∷  -- random-395
    (codes "!", SetRecipe None (codes "$x") (ByNumber 2) (codes "q:=1"), Refused NoSuch) ∷  -- random-396
    (codes "\noverride .RECIPEPREFIX :::=\\\na\na&b a :\\\n\t\\\r\nb :\\\n\\\n%.c -include2 $x;\\\n=${g(} \n", AddLine (BeforeRule (Some 2) (codes "a&b")) (NewRule (codes "foo") Double (codes "-include2 b")), Refused RecipePrefix) ∷  -- random-397
    (codes ".RECIPEPREFIX = f\r\nelse ifdef Q\r\nx.o y: c\n>a \\\n\tb\r\nc:\\\n.PHONY \r\n# \\", RemoveLines (OfRecipe None (codes "foo") (ByNumber 0)), Refused NoSuch) ∷  -- random-398
    (codes "x.o y: \nelse\n# c\n>x\r\nfoo:::  $(s\\) \t$(s\\) \t${c} \r\n", ChangePrereqs (Some 1) (codes "a&b") (RemovePrereq (codes "x.o")), Refused NoSuch) ∷  -- random-399
    (codes " \\\n\tifndef X # c\r\n\t#\0\r\n o-$(a b) \t!= %.o \\$x $(w \\\n # \\\n\\\n#define\n>else\n\tx\r\n\n", ChangeValue (One None) (codes "o-$(a b)") (edits.Set (codes "${g(} a\\:b")), Refused (BadArgument field.Name)) ∷  -- random-400
    []

answers_8 : map (λ row. outcome row.0 row.1) rows_8 ≡ map (λ row. row.2) rows_8
answers_8 = refl

abbrev rows_9 : List (List ℕ × Edit × Outcome)
rows_9 =
    (codes "\tifdef {X$ :::= $\\\n \\\r\n$| \\$x \nendef\nfoo: \n\\\n\r\n\\\\\n", AddLine Bottom (NewRule (codes "${c}") Double (codes "$(q:;=|) x.o")), Becomes (codes "\tifdef {X$ :::= $\\\n \\\r\n$| \\$x \nendef\nfoo: \n\\\n\r\n\\\\\n${c}:: $(q:;=|) x.o\n")) ∷  -- random-401
    ([], AddLine Bottom (NewAssign (codes "a.b") Append (codes "a")), Becomes (codes "a.b += a\n")) ∷  -- random-402
    (codes "define?=  \r\n.RECIPEPREFIX := X\r\nx.o y: \ntecho a # b\r\n\t\r\n-include2 $(p #): :$(f {) \r\n$(a b) :\t.PHONY ${c} \n%.c  &:a&b \\\n%.o |\\\n\\\n$(p #) \n\\\n# \\", ChangeValue (One None) (codes "t1") (edits.Set []), Refused NoSuch) ∷  -- random-403
    (codes ":$\n# \n${c} t &::\\\n\t| ${c}\n$(f {):  $| t\t-include2\n", RenameTarget (codes "-include2") (codes "c"), Refused NoSuch) ∷  -- random-404
    (codes "CC ::= 2 3 2 3 ${u #c \\\n d\r\nta\\\\", ChangeValue (One None) (codes ">q") (edits.Set (codes ".PHONY")), Refused (BadArgument field.Name)) ∷  -- random-405
    (codes "\nex\n#! b\\;+\\\n\n", AddLine Bottom (NewAssign (codes "a.b") Conditional (codes "a\\:b")), Becomes (codes "\nex\n#! b\\;+\\\n\na.b ?= a\\:b\n")) ∷  -- random-406
    ([], ChangeValue (One (Some 2)) (codes "t1") (edits.Set (codes ": $(q:;=|)")), Refused NoSuch) ∷  -- random-407
    (codes ".RECIPEPREFIX = e\noverride X\n", ChangeValue (One (Some 4294967295)) (codes ".RECIPEPREFIX") (edits.Append []), Refused (BadArgument field.Value)) ∷  -- random-408
    (codes "foo: \n>endef\n\telse\n-x_9\t::=\\\n\t\\\r\nx  y\n$$ : :\t$(s\\) :o \n", AddRecipe None (codes "foo") Last (codes "$("), Becomes (codes "foo: \n\t$(\n>endef\n\telse\n-x_9\t::=\\\n\t\\\r\nx  y\n$$ : :\t$(s\\) :o \n")) ∷  -- random-409
    (codes "-x_9=$ b) # \\\r\n\t\\\nA  := t#\\\\\r\nc  ${c} : :t\t\r\nendef # c\nfoo: \n\t\n-x_9 ::= a\\\n\t\\\r\n1 2 3 ", ChangeValue (One (Some 1)) (codes "-x_9") (edits.Set (codes "a $x")), Becomes (codes "-x_9=a $x # \\\r\n\t\\\nA  := t#\\\\\r\nc  ${c} : :t\t\r\nendef # c\nfoo: \n\t\n-x_9 ::= a\\\n\t\\\r\n1 2 3 ")) ∷  -- random-410
    (codes "\tifdef Z\n\\\n\t\nfoo: x.o\n\t#c \\\n d\n$$:   | $(f {) \n", AddLine (BeforeRule None (codes "$$")) (NewAssign (codes "ifdef") PosixSimple []), Becomes (codes "\tifdef Z\n\\\n\t\nfoo: x.o\n\t#c \\\n d\nifdef ::=\n$$:   | $(f {) \n")) ∷  -- random-411
    (codes "foo: $(p #) $(a b)\nc ::: a&b \\\n\n", ChangePrereqs None (codes "$x") (AddPrereq false (codes "$(f {)")), Refused NoSuch) ∷  -- random-412
    (codes "foo: $(p #)\n\telse\nendif\n", ChangePrereqs None (codes "foo") (AddPrereq false (codes "foo")), Becomes (codes "foo: $(p #) foo\n\telse\nendif\n")) ∷  -- random-413
    (codes "\r\n\tt1+=  \r\n.RECIPEPREFIX ::=\\\n>\r\neendif\r\n", RenameTarget (codes "a") (codes "c"), Refused NoSuch) ∷  -- random-414
    (codes "\\\n\t$  \r\n#\r\nfoo: \n\ty\r\r\n\\\n%.c \\\n \\\n b : $x $(p #) a&b \\\n  \n\n? =}!\\(\\\n\r\nelse\n\t$(\na: .PHONY\n\\\nendif\n", ChangeValue (One (Some 4294967295)) (codes "?") (edits.Append (codes ":")), Refused (BadArgument field.Name)) ∷  -- random-415
    (codes "t&: a\ta t \n>a\\\r\n>b\n\\\n\t\nendef!=t\\\n# c\ndefine .RECIPEPREFIX\n", SetRecipe None (codes "t") (ByNumber 1) (codes "\tb"), Refused RecipePrefix) ∷  -- random-416
    (codes ">)\r\n$$\t%.o : -include2 \r\n-x_9 := \\\n\t\\\r\n\r\n>endef\r\n.PHONY  $$: \tx.o\\\n\t\\\r\n\r\n define  {:\n\r\r\nx.o y: \n.x\r\n", ChangePrereqs (Some 1) (codes "b") (RemovePrereq (codes "$$")), Refused NoSuch) ∷  -- random-417
    (codes "ifeq (a,$(b\r\n", AddLine Bottom (NewAssign (codes "a.b") Immediate (codes "%.o")), Becomes (codes "ifeq (a,$(b\r\na.b :::= %.o\r\n")) ∷  -- random-418
    (codes "endef\\\n\n #c \\\n d\r\na&b a&b \t: .PHONY: \\\r\n x.o  ${g(} $$ ;\r\nendef\nY = : #\0\n\ta\\\n", AddRecipe (Some 1) (codes "a&b") Last (codes "y # z"), Becomes (codes "endef\\\n\n #c \\\n d\r\na&b a&b \t: .PHONY: \\\r\n x.o  ${g(} $$ ;\r\n\ty # z\nendef\nY = : #\0\n\ta\\\n")) ∷  -- random-419
    (codes "Y = \r\n\t \r\n", ChangeValue (One None) (codes "Y") (edits.Append (codes "$(s\\)")), Becomes (codes "Y = $(s\\)\r\n\t \r\n")) ∷  -- random-420
    (codes "define = $(s\\) $(m \\\n a) .PH;Y\n $$(s\\) &::  !", AddLine Bottom (NewAssign (codes "t") Recursive (codes "b")), Becomes (codes "define = $(s\\) $(m \\\n a) .PH;Y\n $$(s\\) &::  !\nt = b\n")) ∷  -- random-421
    (codes " \\\n\t${c}  ${g(} &:\\\nX = \n$(a b)::define  $(q:;=|)| \\\n \\\n  #\0\n\tZ = 1\nx.o y: \n>a\\\\\n\\\n#\n\\\n\\\n{ define\\\n\t\\\n\nfoo: b ${g(}\n>else\n.RECIPEPREFIX :::= $x\n", ChangePrereqs (Some 4294967295) (codes "y") (RemovePrereq (codes "y")), Refused RecipePrefix) ∷  -- random-422
    (codes ".RECIPEPREFIX = a\r\na: c x.o\ne$(\r\n\ta \\\n\tb\r\n\tZ = 1", AddLine (BeforeRule None (codes "t")) (NewAssign (codes "-x_9") Immediate (codes ":")), Refused NoSuch) ∷  -- random-423
    (codes "else\r\n", AddLine Bottom (NewAssign (codes "e") Simple (codes "$(q:;=|)")), Becomes (codes "else\r\ne := $(q:;=|)\r\n")) ∷  -- random-424
    (codes "endef x\n>$(f {) &: $(a b) \nifndef X # c\nb : : foo %.c $(s\\)| $ \\\n\\\n\nfoo: .PHONY\nendif # c\nA +=$(a b) foo1 \n.RECIPEPREFIX=\\\n# c\n\tZ = 1\n\tZ = 1\n$x :foo $(p #)| \n", ChangePrereqs None (codes ">$(f {)") (AddPrereq false (codes "Ã©")), Becomes (codes "endef x\n>$(f {) &: $(a b) Ã© \nifndef X # c\nb : : foo %.c $(s\\)| $ \\\n\\\n\nfoo: .PHONY\nendif # c\nA +=$(a b) foo1 \n.RECIPEPREFIX=\\\n# c\n\tZ = 1\n\tZ = 1\n$x :foo $(p #)| \n")) ∷  -- random-425
    ([], AddLine Bottom (NewRule (codes "%.c") Single []), Becomes (codes "%.c:\n")) ∷  -- random-426
    (codes " \\\n\t${g(}\t$(s\\): -include2 \tt \\\n  #\0\na: ${g(}\n>endif\n\ta \\\n\tb\nc &:: \\\na&b\\\r\n#\n", RenameTarget (codes "a") (codes "$x"), Becomes (codes " \\\n\t${g(}\t$(s\\): -include2 \tt \\\n  #\0\n$x: ${g(}\n>endif\n\ta \\\n\tb\nc &:: \\\na&b\\\r\n#\n")) ∷  -- random-427
    (codes ".REC\r\nEPREFIX = c\n\t\n", RemoveLines (OfAssign (Some 0) (codes "EPREFIX")), Refused NoSuch) ∷  -- random-428
    ([], AddLine Bottom (NewRule (codes "$(p #)") Double (codes "t")), Becomes (codes "$(p #):: t\n")) ∷  -- random-429
    (codes "ECIPEPREFIX = f\n define\\\r\n= \\\\ $( \\\n \n\t\\\r\n", AddLine (AfterVar None (codes "ECIPEPREFIX")) (NewRule (codes "$x ${c}") Double (codes "a")), Becomes (codes "ECIPEPREFIX = f\n$x ${c}:: a\n define\\\r\n= \\\\ $( \\\n \n\t\\\r\n")) ∷  -- random-430
    (codes "e}dif\\\\", AddLine Bottom (NewAssign (codes "a.b") Immediate []), Becomes (codes "e}dif\\\\\na.b :::=\n")) ∷  -- random-431
    (codes " \\\n\r\n-include2 &:\t.PHONY: $x \t$(p #)\\\n\t$(a b); a\\:b # x ; y : z = 1\r\na&b ::: \\\n ;  #\\\\\r\n\n+\\\n\\\nX|\r\n=a$\\\\\\\n\r\n\tx\r\nt: a&b $(p #) $x \r\n\t\r\n", RemoveLines (OfRule (Some 1) (codes "t")), Becomes (codes " \\\n\r\n-include2 &:\t.PHONY: $x \t$(p #)\\\n\t$(a b); a\\:b # x ; y : z = 1\r\na&b ::: \\\n ;  #\\\\\r\n\n+\\\n\\\nX|\r\n=a$\\\\\\\n\r\n\tx\r\n")) ∷  -- random-432
    (codes "x.o y: $$\n#\\\\\\\n\n\t\\\n\n\ty\r\n", RemoveLines (OfRule None (codes "-include2")), Refused NoSuch) ∷  -- random-433
    ([], AddRecipe None (codes "$x") Last (codes ">"), Refused NoSuch) ∷  -- random-434
    (codes "define:#\n\n\na?X\r\n", ChangePrereqs None (codes "$&") (AddPrereq true (codes "$(q:;=|)")), Refused (BadArgument field.Target)) ∷  -- random-435
    (codes "x.o :# $(p \n#)\n#:\\\n\t\n\tt: u", RenameTarget (codes "x.o") (codes "b"), Becomes (codes "b :# $(p \n#)\n#:\\\n\t\n\tt: u")) ∷  -- random-436
    (codes "$$  ${g(} : a.b != a\\:ba \r\n\t\\\ndefine D\r\noverride +=\\\n\\\n# x ; y : z = 1\r\n.y\r\n X ::=.PHONY\t$(p #) \\\\\\\\\n\r\n", RenameTarget (codes "$$") (codes "$ "), Refused (BadArgument field.New)) ∷  -- random-437
    (codes "foo: a&b\n\tifdef Z\noverride :=\\\\ a #\\\\\\\n\n$(p #):::\t$(s\\) b | x.o \noverride define .RECIPEPREFIX\nx.o &:override \toverride\\\r\n:= ${u $\\\r\n$#\ndefine!= \\\n \\\n  ", AddLine Bottom (NewAssign (codes ">q") PosixSimple []), Refused (BadArgument field.Name)) ∷  -- random-438
    (codes "ifneq\r\n>Z = 1\r\nendif\r\n\tt: u\r\n", RemoveLines (OfRule None (codes "-include2")), Refused NoSuch) ∷  -- random-439
    (codes "a: c\n\\\n\t\r\nA :=$x\t$(m \\\n n) \\\n  \r\n$$\\\r\n: $(a b)  a \r\n$(p #):\\\n\t\r\n \\\n\texport define\r\n", RemoveLines (OfRule None (codes "$(p #)")), Becomes (codes "a: c\n\\\n\t\r\nA :=$x\t$(m \\\n n) \\\n  \r\n$$\\\r\n: $(a b)  a \r\n \\\n\texport define\r\n")) ∷  -- random-440
    (codes "endif # c\n$(X) =\\\n\t$(s\\)\nelse ifdef Q\r\n-include2 \\\n \\\n :\t$(p #) \t%.c $(a b) ;\\\n\\\n\n\t \r\na:: foo\t%.o .PHONY# c", ChangeValue (One None) (codes "$(X)") (edits.Append (codes "2 3")), Refused (BadArgument field.Name)) ∷  -- random-441
    (codes "b", AddLine Bottom (NewRule (codes "${c} %.c") Double (codes "e$#f ${g(}")), Becomes (codes "b\n${c} %.c:: e$#f ${g(}\n")) ∷  -- random-442
    (codes "$", AddLine Bottom (NewAssign (codes "CC") Shell (codes "$(f {)")), Becomes (codes "$\nCC != $(f {)\n")) ∷  -- random-443
    (codes "Y = \\\n=\\\r\n\n\\\n=}$XX\nexport private define .RECIPEPREFIX\nex\n\ty\r\nY \\\n \\\n != \\\n \\\n $\\\r\n\\\r\n\n-x_9 :::= :\\$x #\\\\\n.PHONY :: ${c} \t\n", ChangeValue (One None) (codes "Y") (edits.Append []), Refused (BadArgument field.Value)) ∷  -- random-444
    (codes "private private -x_9:::= t $(w \\\n x  y\\\r\n#\\\\\\\n\r\n%.c ${g(}: c : $(p #)\\\n\t& | a $(p #) \t; \\\n  \0 x.o $(m \\\n n) \r\n\\\nb&:$$ $(a b) $x\t|  # \\\\\\", RemoveLines (OfRecipe None (codes "b") (ByNumber 2)), Refused Absent) ∷  -- random-445
    (codes "\\\n# \r\n\tt: u\ndefine F \\\n\n%.o ::\tt \\\n$(p #)  \n.RECIPEPREFIX +=\\\na\n", AddLine Bottom (NewRule (codes "%.c") Double (codes "%.c")), Refused OpenDefine) ∷  -- random-446
    (codes "endef#c\na.b= a\ta&b .PHONY\\\n\\\n\nt::: \\\n \\\n b .PHONY\ta&b \n>else\n#\n\n", RemoveLines (OfRule (Some 4294967295) (codes "$(s\\)")), Refused NoSuch) ∷  -- random-447
    (codes "define \\\n \\\n = #\\\\\\\n", AddLine (AfterVar None (codes "define")) (NewAssign (codes "X") Recursive []), Refused OpenLine) ∷  -- random-448
    (codes "A ?=${g(}\0 x  y\nt ::$x ; \\# \\# $(q:;=|)# \r\n\t \nta\\\n", RemoveLines (OfRule None (codes "t")), Becomes (codes "A ?=${g(}\0 x  y\nta\\\n")) ∷  -- random-449
    (codes ".RECIPEPREFIX = X\n\\\n#\\\\\\\n\nendif\r\nx.o :::  \\\n\r\n$(a b): \\\r\n %.o\\\r\na \\\na\r\n", AddLine Bottom (NewRule (codes "$(q:;=|)") Double (codes "${c}")), Becomes (codes ".RECIPEPREFIX = X\n\\\n#\\\\\\\n\nendif\r\nx.o :::  \\\n\r\n$(a b): \\\r\n %.o\\\r\na \\\na\r\n$(q:;=|):: ${c}\n")) ∷  -- random-450
    []

answers_9 : map (λ row. outcome row.0 row.1) rows_9 ≡ map (λ row. row.2) rows_9
answers_9 = refl

abbrev rows_10 : List (List ℕ × Edit × Outcome)
rows_10 =
    (codes "\tt: u\r\nx.o y: $(f {)\n.a\\\\\r\n", AddLine (BeforeRule None (codes "x.o")) (NewRule (codes "$(p #)") Double []), Becomes (codes "\tt: u\r\n$(p #)::\r\nx.o y: $(f {)\n.a\\\\\r\n")) ∷  -- random-451
    (codes "\t\\\nifdef A\r\nifdef= \t\r\nifdef\\\nB\r\n>q+= $ #) #\\\\\\\n\nx.o y: \n\t$(\n\tendef\n.PHONY::$( {)  %.c |a \r\n\tifdef Z\n", AddLine (AfterVar None (codes "ifdef")) (NewRule (codes "%.c") Double (codes "b")), Becomes (codes "\t\\\nifdef A\r\nifdef= \t\r\n%.c:: b\nifdef\\\nB\r\n>q+= $ #) #\\\\\\\n\nx.o y: \n\t$(\n\tendef\n.PHONY::$( {)  %.c |a \r\n\tifdef Z\n")) ∷  -- random-452
    (codes ">q +=\r\\\n\\\n\n$x &:$$ %.c .PHONY # x ; y : z = 1\nx.o y: a&b\nea \\\n\tb\nb>=\\\\\n$? ;endef=\\\\\n\nfoo: c\n\tdefine Q\n\tifdef Z\n", ChangePrereqs None (codes "y") (AddPrereq true (codes "-include2")), Becomes (codes ">q +=\r\\\n\\\n\n$x &:$$ %.c .PHONY # x ; y : z = 1\nx.o y: a&b | -include2\nea \\\n\tb\nb>=\\\\\n$? ;endef=\\\\\n\nfoo: c\n\tdefine Q\n\tifdef Z\n")) ∷  -- random-453
    (codes "\tdefine Q\n>endef\n", ChangeValue (One None) (codes "a.b") (edits.Append (codes "$$")), Refused NoSuch) ∷  -- random-454
    (codes "a&b  &:\\\n\\\n%.c b \\\n  a # \r\r\n\t\\\n$(q:;=|) &:  \r\n\ty\r\r\n \\\n\t$(a b) :: .PHONY \\\n  :%.c a&b \\\n  \r\n", AddLine Bottom (NewAssign (codes "a.b") Simple (codes "t")), Becomes (codes "a&b  &:\\\n\\\n%.c b \\\n  a # \r\r\n\t\\\n$(q:;=|) &:  \r\n\ty\r\r\n \\\n\t$(a b) :: .PHONY \\\n  :%.c a&b \\\n  \r\na.b := t\n")) ∷  -- random-455
    (codes "A :::= \\\n  $(s\\)\\\n\r\nt1 ?= \\\n\\# \nt \nexport endef +=  \nendif # c\r\n$=|define=}define)bb\r\n\ta\\\n", ChangeValue (One None) (codes "$=|define") (edits.Set (codes "$(f {) $(f {)")), Refused (BadArgument field.Name)) ∷  -- random-456
    (codes "t1 \\\n?= a&b  $ $(f {) #c \\\n d\r\nifdef :::=\t\n$(X) :::= \r\nÃ© &:: $(f {)\ta&b\\\nc\\\n\n\t#c\n", ChangePrereqs None (codes "Ã©") (RemovePrereq (codes "$(f {)")), Becomes (codes "t1 \\\n?= a&b  $ $(f {) #c \\\n d\r\nifdef :::=\t\n$(X) :::= \r\nÃ© &::\ta&b\\\nc\\\n\n\t#c\n")) ∷  -- random-457
    (codes "A := \\\n \\\n $x \\\n# \\\r\n: \r\n${c} :t $(q:;=|)\tx.o\\\\\n\r\nY!  ?= $( \r\n: export define := \t\\##\r\n %.o&:x.o \\\n  : \tfoo $(a b)\\\n\\\n%.c\n>a\\\r\n>b\nt\\\n\r\n", AddLine (BeforeVar None (codes "A")) (NewRule (codes "Ã©") Double []), Becomes (codes "Ã©::\nA := \\\n \\\n $x \\\n# \\\r\n: \r\n${c} :t $(q:;=|)\tx.o\\\\\n\r\nY!  ?= $( \r\n: export define := \t\\##\r\n %.o&:x.o \\\n  : \tfoo $(a b)\\\n\\\n%.c\n>a\\\r\n>b\nt\\\n\r\n")) ∷  -- random-458
    (codes "\ta\\\\\n%.o:: $(q:;=|) \t$(s\\) # \r\r\nendif\n%.o\t&:b $(a b) \t$$ \n\t%.c&: A:::= %.c ", AddLine (BeforeRule None (codes "%.o")) (NewRule (codes "$x $(s\\)") Single (codes ".PHONY")), Becomes (codes "\ta\\\\\n%.o:: $(q:;=|) \t$(s\\) # \r\r\nendif\n$x $(s\\): .PHONY\n%.o\t&:b $(a b) \t$$ \n\t%.c&: A:::= %.c ")) ∷  -- random-459
    (codes "foo: \n\ta\n>a\\\r\n\t\r\n$(s\\)\\\n\t\\\r\n$(p #):\t#\\\n \r\nt x.o &: .RECIPEPREFbX!= # \r\r\n", RenameTarget (codes "|") (codes "a"), Refused (BadArgument field.Old)) ∷  -- random-460
    (codes "\\\nfoo\\\n${g(}: $x \nea\\\\\n t1= $  \n\tX =\t#\\\\\n private\toverride= \nexport override\\\nY += $(p #) $(a b)\\#\\\r\n\nx.o y: ${g(}\n# \r\noverride :::= ;; \\\n  #\0", AddLine (AfterVar None (codes "Y")) (NewAssign (codes "e") Immediate (codes "b x.o")), Becomes (codes "\\\nfoo\\\n${g(}: $x \nea\\\\\n t1= $  \n\tX =\t#\\\\\n private\toverride= \nexport override\\\nY += $(p #) $(a b)\\#\\\r\n\ne :::= b x.o\nx.o y: ${g(}\n# \r\noverride :::= ;; \\\n  #\0")) ∷  -- random-461
    (codes "$(a b) &: $(a b) : $(s\\) \n$)>define\r\n+\\\n\n\t\\\n\r#|\n-x_9!= \\$x \\\n$\\\r\n \r\n%.c \tb &::$x $$ b # x ; y : z = 1\r\nx.o y: ${c}\n\telse\n\tt: u\nta\\\r\n>b\n\\\ndefine .RECIPEPREFIX\n&\\\n:\t\\\n+\r\n-x_9 +=\\\nt%.c \\\\\\ \t\r\n$x  &: \t#c \\\n d", AddLine (BeforeRule (Some 1) (codes "y")) (NewAssign (codes "t") PosixSimple (codes "$(a b) .PHONY")), Refused RecipePrefix) ∷  -- random-462
    (codes "$$ &:: \t | ${g(}# c\r\na:b&:override\\\r\nt1::= \\\n  ${g(}2 3 \r\nexport private define E # c\r\n\r\n\tendif\r\n $(X)::= \\\r\n \r\nexport define:=  \\\n  \r\nt &:\t|  \r\n%.o a&b\\\n\\\n:\\\r\nY:::= \\\r\n \0 #\\\\\r", AddRecipe None (codes "$$") Last (codes "x"), Becomes (codes "$$ &:: \t | ${g(}# c\r\n\tx\r\na:b&:override\\\r\nt1::= \\\n  ${g(}2 3 \r\nexport private define E # c\r\n\r\n\tendif\r\n $(X)::= \\\r\n \r\nexport define:=  \\\n  \r\nt &:\t|  \r\n%.o a&b\\\n\\\n:\\\r\nY:::= \\\r\n \0 #\\\\\r")) ∷  -- random-463
    (codes "CC ?=  \n.RECIPEPREFIX?=X\n$(p #): : $x foo |t \t%.c # \\\n$(f {) c :$(p #)  $(f {) \t-include2 \n \\\n  :\tY  := \0 #\0\n$(p #) %.c\\\r\n:   \n.a \\\n\tb\nx.o y: b t\n\t$(\n ifneq\n$$::: t ", ChangePrereqs None (codes "x.o") (AddPrereq true (codes "c")), Refused RecipePrefix) ∷  -- random-464
    (codes ".RdefineIPEPREFIX = :=\nb \tx.o :\\\noverride!=foo 1$$ \n\ta \\\n\tb\n :::= \t\r\nifdef \t+= \n.RECIPEPREFIX = :\r\nx.o y: b\nendif c\r\nunexport Y\r\n", AddRecipe None (codes "y") Last (codes "t"), Becomes (codes ".RdefineIPEPREFIX = :=\nb \tx.o :\\\noverride!=foo 1$$ \n\ta \\\n\tb\n :::= \t\r\nifdef \t+= \n.RECIPEPREFIX = :\r\nx.o y: b\n:t\nendif c\r\nunexport Y\r\n")) ∷  -- random-465
    (codes "=\n:X;(;#\nb: : ${g(}\\\r\n$(f {) |$(f {) # \\\n$(f {) &: export\\\r\na.b= c \\\\$(p #) \t\n$(f {)\t$x&::$(s\\)\tx.o | .PHONY \n\n\\\n#\\\\\n>q:= ${c} \t$\\\nx  y\\\r\n# x ; y : z = 1\nx.o y: \n\\ c \\\n  : t1 \\\r\n ::= \\\na $ foo\t# c\n\techo \na # b\n", ChangeValue (One None) (codes "ifdef") (edits.Append []), Refused (BadArgument field.Value)) ∷  -- random-466
    (codes "$x d|: $(a b)\nt :\\\r\na&b x.o|a \\\n#\nA::= foo\\ -include2 \\\n \\\n #\\\\\n%.c&:\\\n\t\\\r\nb\t$x \n${g(} : t\\\n\t\\\r\n\n\tendif\nfoo: %.c .PHONY\ntelse\n.x\nprivate Y ::=x.o b :\t\n", ChangePrereqs None (codes "%.c") (RemovePrereq (codes "foo")), Refused Absent) ∷  -- random-467
    (codes "X=\n?\n \r\\\\\n\r\t#\nY !=x  y$x %.c \noverride define E # c\ndefine \nfoo: \n.a\\\r\n>b\nx.o y: \n", RemoveLines (OfAssign None (codes ">q")), Refused (BadArgument field.Name)) ∷  -- random-468
    (codes "endef \\\n+=; \\\n# c\r\n${g(} %.o : : x.o : $(p #) \\\r\n %.c\t%.c\r\n\r\n\t#c\r\n", AddLine (AfterVar None (codes "Y")) (NewRule (codes "t") Single []), Refused NoSuch) ∷  -- random-469
    (codes "$(q:;=|): ${c} :\\\n\t.PHONY\r\n.RECIPEPREFIX?=\\\na\r\n${c}: $$  a \tfoo |\\\n\t ;\t \r\n# \\\r\nifneq\r\n>Z = 1\r\n\t$(s\\) : : #\\\\\\\n\r\n-x_9 :=a&b$x1 ", ChangeValue (One None) (codes ".RECIPEPREFIX") (edits.Set (codes ";")), Refused Reserved) ∷  -- random-470
    (codes ".PHONY::a& ", AddLine (BeforeVar (Some 0) (codes "CC")) (NewRule (codes "$(f {)") Single (codes "foo")), Refused NoSuch) ∷  -- random-471
    (codes ".RECIPEPREFIX = .\n\n+=\n.RECIPEPREFIX:::= >\ndefine \\\r\n +=$\\\n \\\n\n.\n$(a b) ::: -i clude2 c\t#\nx.o &: #\\\\\\\n\nt1 :=  \n", ChangeValue (One None) (codes "define") (edits.Set (codes "c")), Becomes (codes ".RECIPEPREFIX = .\n\n+=\n.RECIPEPREFIX:::= >\ndefine \\\r\n +=c\n.\n$(a b) ::: -i clude2 c\t#\nx.o &: #\\\\\\\n\nt1 :=  \n")) ∷  -- random-472
    (codes "%.c  $(q:;=|):\t \t;  \noverride::= \\\n$ \n$(f {)\t${c} &: $(p #) # \r\nifdef\\\nB\nfoo: \nexport override\\\n\t\\\r\n:::=  \\ x.o #\n ifdef ?=\t$(s\\) ${g(} \n-x_9\t= \\\n #\\\\\\\n\ne$(\n\t$(a b)&:   # \\", AddLine (BeforeVar (Some 2) (codes "override")) (NewAssign (codes "t1") Simple (codes "${c} \\$x")), Becomes (codes "%.c  $(q:;=|):\t \t;  \noverride::= \\\n$ \n$(f {)\t${c} &: $(p #) # \r\nifdef\\\nB\nfoo: \nt1 := ${c} \\$x\nexport override\\\n\t\\\r\n:::=  \\ x.o #\n ifdef ?=\t$(s\\) ${g(} \n-x_9\t= \\\n #\\\\\\\n\ne$(\n\t$(a b)&:   # \\")) ∷  -- random-473
    (codes "e\n>A := -include2  \n\t\\\nbX>\\\n\nexport \tpriv)te A ::\\\n\t\\$x$\\\n\na: \n \n$(a b):  #\0\n", SetRecipe None (codes "a") (ByNumber 4294967295) (codes ">"), Refused Absent) ∷  -- random-474
    (codes ".RECIPEPREFIX = f\r\n endif\r\n${g(}:\\\n${c}\t$$  t \r\n", ChangeValue (One None) (codes ".RECIPEPREFIX") (edits.Append (codes "$(a b)")), Refused Reserved) ∷  -- random-475
    (codes "else ifdef Q\r\ntx\r\n", AddLine Bottom (NewRule (codes "t") Double []), Becomes (codes "else ifdef Q\r\ntx\r\nt::\r\n")) ∷  -- random-476
    (codes ".RECIPEPREFIX = c\r\n\\\n# \r\rt1 \\\n:::= \\\n \\\n a&b2 3 \r\nexport ifdef?=a&\n\t#\0\r\nendef # c\r\ndefine E # c\r\n.PHONY  foo ::$(f {) \\\n${c} \t${;g(} \n>else\nea\\\\\r\naecho a # b\r\nprivate\toverride a.b ::=\t$(q:;=|): # \\", ChangeValue (One (Some 4294967295)) (codes ".RECIPEPREFIX") (edits.Set []), Refused Reserved) ∷  -- random-477
    (codes "define =  \nifneq\n\\\n\r\n\t\\\ndefine&\n+\\aa\n${g(}: %.o:  \n$(q:;=|) :\n", AddLine (BeforeRule None (codes "${g(}")) (NewAssign (codes "e") Conditional (codes "a 2 3")), Becomes (codes "define =  \nifneq\n\\\n\r\n\t\\\ndefine&\n+\\aa\ne ?= a 2 3\n${g(}: %.o:  \n$(q:;=|) :\n")) ∷  -- random-478
    (codes ".PHONY\t:\\\r\na&b\r\n", ChangePrereqs None (codes ".PHONY") (AddPrereq true (codes "$(a b)")), Becomes (codes ".PHONY\t:\\\r\na&b | $(a b)\r\n")) ∷  -- random-479
    (codes ".RECIPEPREFIX = a\r\n\r\n\ta \\\n\tb\r\naa \\\n\tb\r\nexport private define D\r\nendef =.PHONY \t#c \\\n d\r\n>else\r\n>echo a # b\r\nt : %.c : c -include2 $$ | #\r\n", AddLine (AfterVar None (codes ".RECIPEPREFIX")) (NewAssign (codes "t1") Recursive (codes "c $(p #)")), Refused Reserved) ∷  -- random-480
    (codes ".RECIPEPREFIX = >\r\nc ::override \\\n!=\\\n\t \r\nt: ${c} \\\n.PHONY -include2 |\\\na&b\\\r\n\r\n\tdefine Q\r\n #c \\\n d", ChangeValue (One None) (codes ".RECIPEPREFIX") (edits.Set (codes "\\$x ${c}")), Refused Reserved) ∷  -- random-481
    (codes ">%.o \tfoo:: override \\\n \\\n X::= \t$## \\\noverride define D\n\t ", AddLine Bottom (NewRule (codes "t") Double []), Becomes (codes ">%.o \tfoo:: override \\\n \\\n X::= \t$## \\\noverride define D\n\t \nt::\n")) ∷  -- random-482
    (codes "> \r\n:}$\n!\n($\\X|\n;!#+\r{#\n\r\na: \n\ta\\\nifeq(a,$(b\na.b \t?= a #.c  #c \\\n d\r\n$(f {) t&:: x.o \n", AddLine (AfterVar (Some 1) (codes "a.b")) (NewRule (codes "x.o") Single (codes "$(f {)")), Becomes (codes "> \r\n:}$\n!\n($\\X|\n;!#+\r{#\n\r\na: \n\ta\\\nifeq(a,$(b\na.b \t?= a #.c  #c \\\n d\r\nx.o: $(f {)\r\n$(f {) t&:: x.o \n")) ∷  -- random-483
    (codes "a: %.c $x\n\tendef\n#\n\tZ = 1\n \\\n\n-x_9 :::=  \n$(q:;=|) &:: |$& \n $(f {) :\\\na ; c \\\n \\\n $(a b) $$ \nifdef A\n )\\\\\n+", RemoveLines (OfRule None (codes "$(f {)")), Becomes (codes "a: %.c $x\n\tendef\n#\n\tZ = 1\n \\\n\n-x_9 :::=  \n$(q:;=|) &:: |$& \nifdef A\n )\\\\\n+")) ∷  -- random-484
    (codes "x.o y: $$ a&b\r\nendef\r\n.endif\r\n$\0;X\r\nfoo: b \\\n \\\n b\ntt: u\n\tifdef Z\r\n\t\r\ndefine| ;#:\0b\n\0\r\noverride ::=  \r\nX :::=  \r\n", RenameTarget (codes "y") (codes "c"), Becomes (codes "x.o c: $$ a&b\r\nendef\r\n.endif\r\n$\0;X\r\nfoo: b \\\n \\\n b\ntt: u\n\tifdef Z\r\n\t\r\ndefine| ;#:\0b\n\0\r\noverride ::=  \r\nX :::=  \r\n")) ∷  -- random-485
    (codes "$x:  \r\n>q :=\\\n\t\\\r\n%.c \\\n", ChangePrereqs None (codes "$x") (RemovePrereq (codes "$x")), Refused Absent) ∷  -- random-486
    (codes "a: \n\t$(\na: x.o \tb\n\t#\\\\\n ifde=A\n>a\\\r\n>b\nendif\n>endef\n\t \n$$ $$ \t:: export \tprivate  >q += c 2 3 ${g(} \n", AddLine Bottom (NewRule (codes "$(q:;=|)") Single (codes "t")), Becomes (codes "a: \n\t$(\na: x.o \tb\n\t#\\\\\n ifde=A\n>a\\\r\n>b\nendif\n>endef\n\t \n$$ $$ \t:: export \tprivate  >q += c 2 3 ${g(} \n$(q:;=|): t\n")) ∷  -- random-487
    (codes "\\\nY ::=  #\\\\\\\n\n\n\r=>adefine&\\\n\r\n\n\\\n\t\n", AddLine (AfterVar None (codes "override")) (NewAssign (codes "define") Simple []), Refused NoSuch) ∷  -- random-488
    (codes "X :::=\\\n\t\\\r\n \nelse\n>endif\n\telse\nx.o y: $(q:;=|)\noverride X\nfoo&:${g(}  :;\\\r\n%.c| \\\n \\\n #\\\\\\\n\na&b \\\r\n -include2: :.PHONY  ${g(} $(p #)\\\r\n#\\\\\\\n", RemoveLines (OfRecipe None (codes "x.o") (ByNumber 1)), Refused Absent) ∷  -- random-489
    (codes "#c\n d\r\n", AddLine Bottom (NewRule (codes "a&b %.c") Double (codes "$(a b)")), Becomes (codes "#c\n d\r\na&b %.c:: $(a b)\n")) ∷  -- random-490
    (codes "x.o y: $(f {)\neendef\nc : \\\n\\\n\nY\\\n\\\n+= %.c b \t\n\t\nx.o y: $x\n\t$(\n> \n endif\nXa\r", ChangePrereqs None (codes "c") (RemovePrereq (codes "$(a b)")), Refused Absent) ∷  -- random-491
    (codes "else ifdef Q\r\n\tZ = 1\r\n$(s\\)&:: ${c} $(q:;=|) \r\n", ChangePrereqs None (codes "$(s\\)") (AddPrereq false (codes "%.o")), Becomes (codes "else ifdef Q\r\n\tZ = 1\r\n$(s\\)&:: ${c} $(q:;=|) %.o \r\n")) ∷  -- random-492
    (codes "b \\\r\n : .PHONY \t:$(a b)\n", ChangePrereqs (Some 2) (codes "b") (AddPrereq true (codes "%.c")), Refused NoSuch) ∷  -- random-493
    (codes ".PHONY : %.o  %.o  .PHONY |\\\n$(p #) \\\n\n$$&: \ta -include2  \r\n\tendef\r\n.PHONY :c t ${c} \n;b\\\n\r\n", SetRecipe (Some 1) (codes ".PHONY") (ByNumber 0) (codes "cÿ"), Refused Absent) ∷  -- random-494
    (codes "${  &:  | \\\n# \r\n\t\\\n\nendef\r\n", ChangePrereqs None (codes "d|") (AddPrereq false (codes ".PHONY")), Refused (BadArgument field.Target)) ∷  -- random-495
    (codes ".RECIPEPREFIX = d\nCC \\\n  :::= -include2\nx.o y: \n>$(\n\ta\\\n\tdefine Q\n?$|:$;&}\r\ndefine\n? +\n&$ \t(\\\n\t\r\n\nty\r\n", RemoveLines (OfRecipe None (codes "x.o") (ByNumber 1)), Refused Absent) ∷  -- random-496
    (codes ".RECIPEPREFIX = .\r\ndefine = $(f {) tx  y#\\\\\r\n\\\n>q\t!= ; \r\n.RECIPEPREFIX::=>>\r\n\techo a # b\r\n", RemoveLines (OfAssign (Some 2) (codes ".RECIPEPREFIX")), Refused Reserved) ∷  -- random-497
    (codes ".RECIPEPREFIX = :\r\nA\\\r\n?= b \r\nfoo: $(a b) \\\nc\n\ta\\\n>a\\\\\r\n\\endef+ =endef\r\n#\\\\\\\n\r\nendif # c\r\nt1!=\\\r\n#\\\\\\\n\r\n%.o c: ;  \n\techoa # b\n>a \\\n\tb\r\n${g(}\t$(q:;=|) &:  \r\n", ChangePrereqs None (codes "foo") (RemovePrereq (codes "c")), Becomes (codes ".RECIPEPREFIX = :\r\nA\\\r\n?= b \r\nfoo: $(a b)\n\ta\\\n>a\\\\\r\n\\endef+ =endef\r\n#\\\\\\\n\r\nendif # c\r\nt1!=\\\r\n#\\\\\\\n\r\n%.o c: ;  \n\techoa # b\n>a \\\n\tb\r\n${g(}\t$(q:;=|) &:  \r\n")) ∷  -- random-498
    (codes "Y += $x  \r\nc: \\\n \\\n foo#\r\nfoo   &:a&b ${g(} $x \\\n  \r\nifdef+=\\\na \r\n$(X)\t= t# c\n>\r\nifeq (a,$(b\r\n \\\n", ChangeValue (One None) (codes "$(X)") (edits.Append (codes "$(f {)")), Refused (BadArgument field.Name)) ∷  -- random-499
    (codes " override !=\\\n\t$\t$( %.o#\0\r\n.RECIPEPREFIX :=>\r\nx.o y: \n>echo a # b\r\n>Z = 1\r\n\t%.o: \t.PHONY b \t${c}; #\\\\\\\n\r\n#c \\\n d\r\n", ChangeValue (One None) (codes "Y") (edits.Set (codes "foo")), Refused NoSuch) ∷  -- random-500
    []

answers_10 : map (λ row. outcome row.0 row.1) rows_10 ≡ map (λ row. row.2) rows_10
answers_10 = refl

abbrev rows_11 : List (List ℕ × Edit × Outcome)
rows_11 =
    (codes ".RECIPEPREFIX = X\r\n.a\\\r\n>b\r\nc : ${c}\\\n\\\n$  \r\nX ?=t\\\n\t\\\r\n\r\n>else\r\n$(X) \\\n  != 1 ${u \\\n# x ; y : z = 1\nendif\nendef= 2 3 #\\\\", AddLine Bottom (NewRule (codes "t") Double []), Becomes (codes ".RECIPEPREFIX = X\r\n.a\\\r\n>b\r\nc : ${c}\\\n\\\n$  \r\nX ?=t\\\n\t\\\r\n\r\n>else\r\n$(X) \\\n  != 1 ${u \\\n# x ; y : z = 1\nendif\nendef= 2 3 #\\\\\r\nt::\r\n")) ∷  -- random-501
    (codes "telse\n\t\\\n${g(}:\\\n$(f {)\\\n%.o x.o #\n$(f {)&: %.o :  b c\n-include2  .PHONY : $(p #) $(f {)| c \n$$ x.o &: \t$(f {) | c \\\n \\\n #c \\\n d\nendef#c\n\ta\\\n", RemoveLines (OfRule (Some 0) (codes "x.o")), Refused NoSuch) ∷  -- random-502
    (codes ".RECIPEPREFIX = d\nfoo: \nfoo: $(a b)\t$(q:;=|)\n\\\n#\n\tt: u\n>y\r\n\ta \\\n\tb\nx.o\ta&b \\\n::: \\\r\n $(a b) override \t${g(}\n>a\\\\\na: -include2\nifeq (a,$(b\n\telse\n", AddRecipe (Some 1) (codes "foo") Last (codes "x"), Becomes (codes ".RECIPEPREFIX = d\nfoo: \ndx\nfoo: $(a b)\t$(q:;=|)\n\\\n#\n\tt: u\n>y\r\n\ta \\\n\tb\nx.o\ta&b \\\n::: \\\r\n $(a b) override \t${g(}\n>a\\\\\na: -include2\nifeq (a,$(b\n\telse\n")) ∷  -- random-503
    ([], AddLine (AfterVar None (codes "CC")) (NewRule (codes "x.o") Single (codes "t $(q:;=|)")), Refused NoSuch) ∷  -- random-504
    (codes "\t\\\na&b foo: \\\n \\\n \na: $(q:;=|) $(s\\)\n\n\t#\\\\\n-x_9 += $(m \\\n n) -include2\n${g(} : -include2 |$(a b)  \n#\0", ChangeValue (One None) (codes "-x_9") (edits.Append []), Refused (BadArgument field.Value)) ∷  -- random-505
    (codes ".RECIPEPREFIX = >\r\n\ta \\\n\tb\r\nifdef\\\nB\r\nx.o y: \ntendif\n.a\\\n #\0\r\n$(q:;=|) &:\tc\\\n\\\n\r\nifdef ?= ${c} #\r\nendef # c\r\n\\\nt1+= \\#\\\r\n%.o\\\n\r\nendef\r\nelse ifdef Q\r\n", RenameTarget (codes "c") (codes "$(s\\)"), Refused NoSuch) ∷  -- random-506
    (codes ">#c\r\nifeq define(a,$(b\nX$  \\\n += \ta{b\\\n\t2 3", ChangeValue (One None) (codes "X$ ") (edits.Set (codes ";")), Refused (BadArgument field.Name)) ∷  -- random-507
    ([], AddLine Bottom (NewAssign (codes "-x_9") Shell (codes "\\$x")), Becomes (codes "-x_9 != \\$x\n")) ∷  -- random-508
    (codes "else ifdef Q\r\n :: \\\n-x_9  := $x \\$x\r\nfoo :: override  ?= .PHONY\r\n\tx\r\n", AddLine Bottom (NewRule (codes "foo x.o") Single []), Becomes (codes "else ifdef Q\r\n :: \\\n-x_9  := $x \\$x\r\nfoo :: override  ?= .PHONY\r\n\tx\r\nfoo x.o:\r\n")) ∷  -- random-509
    (codes "ifeq (a,$(b\nt  foo: \nex\n$(p #) :: \tprivate A \\\r\n := \n.RCIPEPREFIX?=>>\n\\ :  $x %.c ;2 3  $(f {) # x ; y : z = 1\n$(q:;=|): \n.RECIPEPREFIX =>\nfoo: %.c\nay\r\n", ChangeValue (One None) (codes ".RECIPEPREFIX") (edits.Set (codes "$(q:;=|)")), Refused Reserved) ∷  -- random-510
    (codes ".RECIPEPREFIX = c\nx.o y: a&b x.o\n\tendif\nfoo: $(q:;=|) %.c\n#\\\\\\\n\n${c}\\\r\n:  \\\r\n #c \\\n d\n\t#c\n\ta\\\\\n", RemoveLines (OfRecipe None (codes "y") (ByNumber 2)), Refused Absent) ∷  -- random-511
    (codes ")\\\n\\\n\\\n+?(\\\n\\\\\t\r\n\tZ = 1\n\t \r(: |  \r\n\tb:: \t; b$$\\\n\t\\\r\n| \n", RemoveLines (OfAssign None (codes "endef")), Refused NoSuch) ∷  -- random-512
    (codes "override\tprivate + != \t\nx.o y: ${c} \t$(f {)\nelse\n.RECIPEPREFIX ?= \n.PHONY :: \tb a&b  \nendef :::= 1#\\\\\\\n\n", ChangeValue (One None) (codes "+") (edits.Set []), Refused (BadArgument field.Name)) ∷  -- random-513
    (codes "override undefine X\nfoo: foo\n>define Q\na: \n\ta\\\r\n>b\n\ta\\\\\r\n\tt: u", ChangePrereqs None (codes "a") (RemovePrereq (codes "b")), Refused Absent) ∷  -- random-514
    (codes ">$(s\\) $x &:  |foo a&b #\0\nendef ?=\\\r\n \\\n  \n", ChangeValue (One None) (codes "endef") (edits.Set (codes "$(q:;=|)")), Becomes (codes ">$(s\\) $x &:  |foo a&b #\0\nendef ?=\\\r\n \\\n  $(q:;=|)\n")) ∷  -- random-515
    ([], AddRecipe (Some 2) (codes "$;") Last (codes "cÿ"), Refused NoSuch) ∷  -- random-516
    (codes "$x\\\n\tb &: \tfoo\\\n\t\\\r\n:\\\r\n$(a b)\nendef:=%.o #\nendef\n\\\n\t\r\n\\\nelse ifdef Q\n%.c::: \\\n  a&b \\\n \\\n b ; \t\r\nifneq\r\nexport a.b := \n\tZ = 1\r", RemoveLines (OfAssign None (codes "a.b")), Refused Leans) ∷  -- random-517
    (codes ".RECIPEPREFIX = i\n-x_9 := \\\r\n \\\\ $$#c \\\n d\nifdef = \\\n \\\n $\\\n  =\n\t\\\nendif\n\t$$:t \\\n \\\n $x ; 2 3 \n\tendif\noverride\\\n\\\n?= $\\\r\n \n>q = %.c  b #\nendef\nx.o y: a\ne#c\nfoo: $(q:;=|)\n>$(\n\t#\n", SetRecipe None (codes "x.o") (ByNumber 4294967295) (codes "x"), Refused Absent) ∷  -- random-518
    (codes ".R\\ECIPEPREFIX = %\n\\\nX ::= \\\\ \n", ChangeValue (One None) (codes "X") (edits.Append []), Refused (BadArgument field.Value)) ∷  -- random-519
    (codes "\\\nendif # c\na :$x  : \tc  $$  $(a b)  | x.o#\n\telse", AddRecipe None (codes "a") Last (codes "$("), Becomes (codes "\\\nendif # c\na :$x  : \tc  $$  $(a b)  | x.o#\n\telse\n\t$(\n")) ∷  -- random-520
    (codes "export CC ?=  \na: foo\n\t#c\n\nendef # c\n\t\\\nelse\n$(f {) -include2: ifdef != $\\\n \t\n.t: u\na: $(q:;=|) %.c\n%.c&:%.o\\ \\\n$x \nifeq (a,$(b\n", RemoveLines (OfAssign None (codes "CC")), Becomes (codes "a: foo\n\t#c\n\nendef # c\n\t\\\nelse\n$(f {) -include2: ifdef != $\\\n \t\n.t: u\na: $(q:;=|) %.c\n%.c&:%.o\\ \\\n$x \nifeq (a,$(b\n")) ∷  -- random-521
    (codes "\\\nY :=\t$\\\n $(m \\\n n)\t\n\tifdef Z\n\t\\\n\n$x : : ${g(}\t$(p #) \t$x \ndefine D\n", AddLine (AfterVar (Some 0) (codes "Y")) (NewAssign (codes "A") Append []), Refused NoSuch) ∷  -- random-522
    (codes ".RECIPEPREFIX =\\\nÃ\r\nb\tb\\\r\n: define+=  \r\n\t$(X)\\\n:= \\\n \\\n \r\nX +=\\ \\\n\r\nfoo: -include2  $(f {)\ntifdef Z\n.PHONY: -x_9::=  a\\:b ;%.c\\ \\\n#c \\\n d\nY \\\r\n +=$ #c \\\n d\r\nexport ifdef::= a\\:b$(a b)  $(s\\)\r\n\t# x ; y : z = 1", AddLine Bottom (NewAssign (codes "endef") Append (codes "\\$x $(q:;=|)")), Refused RecipePrefix) ∷  -- random-523
    (codes "$(a b) : a $(s\\) -include2\n\t\nexport private defin\n$(p #)  -include2 \\\n \\\n : >q+=# c\n \nfoo: \n\t\nx.o y: .)PHONY\\\na\n\n \\\n\tX?=foo\nendif", ChangePrereqs None (codes "y") (RemovePrereq (codes ".)PHONY")), Becomes (codes "$(a b) : a $(s\\) -include2\n\t\nexport private defin\n$(p #)  -include2 \\\n \\\n : >q+=# c\n \nfoo: \n\t\nx.o y:\\\na\n\n \\\n\tX?=foo\nendif")) ∷  -- random-524
    (codes ">q:= # c\n>Z  1\n\r\nc: : ${c} $(q:;=|) #\\\\\\\n\n$(a b)::  ${c} \tc \t| c\n$x ::  \n # \r\n", ChangeValue (One None) (codes ">q") (edits.Set []), Refused (BadArgument field.Name)) ∷  -- random-525
    (codes "\r\n>q!= \\\r\n \\\n# x ; y : z = 1\r\n", AddLine (BeforeVar (Some 2) (codes "A")) (NewRule (codes "a") Double (codes "a ${g(}")), Refused NoSuch) ∷  -- random-526
    (codes ".RECendefIPEPREFIX = %\nendif\r\n \r\ntdefine Q\n", RemoveLines (OfAssign None (codes ".RECendefIPEPREFIX")), Becomes (codes "endif\r\n \r\ntdefine Q\n")) ∷  -- random-527
    ([], AddLine Bottom (NewAssign (codes ">q") Conditional (codes ".PHONY")), Refused (BadArgument field.Name)) ∷  -- random-528
    (codes "endif # c\n", AddLine Bottom (NewAssign (codes "X") Simple (codes "1")), Becomes (codes "endif # c\nX := 1\n")) ∷  -- random-529
    (codes "\tdefine Q\na: \n>$(\n.else\r\n\t#c\r\nfoo: $(q:;=|)\n\t \n\techo a # b\n\\\n# c\n\t#\0\n\techo a # b\r\nendef x\nx.o y: $(f {)\n ", SetRecipe None (codes "x.o") (ByNumber 4294967295) (codes "q:=1"), Refused Absent) ∷  -- random-530
    ([], ChangeValue (One None) (codes "a.b") (edits.Append (codes "a\\:b foo")), Refused NoSuch) ∷  -- random-531
    (codes "define X =\r\n>q = = \r\nendif\r\n", AddLine Bottom (NewRule (codes "$(q:;=|)") Single (codes "$(a b) $(f {)")), Refused OpenDefine) ∷  -- random-532
    (codes ".RECIPEPREFIX ?= \nel\\se\n", RemoveLines (OfAssign None (codes ".RECIPEPREFIX")), Refused Reserved) ∷  -- random-533
    (codes "=\n.RECIPEPREFIX +=>\nifdef\\\nB\n%.c \t: : c %.c \\\n  #\\\\\\\n\nfoo: \n\techo a # b\n\\\nb\t$(s\\):\\\na \\\n \\\n %.o | \\\r\n \\\r\n#\0\n\tifdef Z", AddLine (BeforeRule (Some 2) (codes "-include2")) (NewAssign (codes "X") PosixSimple (codes "a\\:b |")), Refused RecipePrefix) ∷  -- random-534
    (codes "A := = c \nendef\nelse\na : :%.c $$\t\n>ifdef Z\n>echo a # b\n.RECIPEPREFIX=X\n$(f {)  &: x.o\tfoo $(q:;=|) \\\n\n", SetRecipe None (codes "$(f {)") (ByNumber 4294967295) (codes "cÿ"), Refused Absent) ∷  -- random-535
    (codes ".RECIPEPREFIX ::= # c\n\ta\\\\\nfoo: b $(q:;=|)\ndefine .RECIPEPREFIX\n-include2:\\\r\n$(a b) a&b\\\n\\\n$(q:;=|)| %.o #", ChangeValue (One (Some 1)) (codes ".RECIPEPREFIX") (edits.Set []), Refused Reserved) ∷  -- random-536
    (codes "\r\n$$ : $$ \nendif\r\n", ChangePrereqs (Some 2) (codes "${g(}") (AddPrereq true (codes "%.o")), Refused NoSuch) ∷  -- random-537
    (codes "-inc\r\nde2 : t  a&b b;c $(a b) \\\nX  \n>a&b &:: $(p #) \ta&b ;  $x $  $\\\n\na&b %.c: \nifdef\r \\\n\t\n$=\\\n\\\\\n\\\nx.o y: \n\t\n>Z = 1\n", SetRecipe (Some 4294967295) (codes "y") (ByNumber 1) (codes " a"), Refused NoSuch) ∷  -- random-538
    (codes ".PHONY\\\n\t\\\r\na :A != \r\n>override\ta.b= fooa \r\n\ta \\)\n\tb\r\n-x_9 != \\\n \\\n #c \\\n d\r\n>endif\r\noverride define X =\r\n$(a b): .PHONY\r\n \t&: d\t\\\nefine\\\n\\\n:=\\\n\\\n$( a\\:b$(a b) \\\n\r\n", AddLine (AfterVar None (codes "-x_9")) (NewRule (codes "$(a b)") Double (codes "%.o")), Becomes (codes ".PHONY\\\n\t\\\r\na :A != \r\n>override\ta.b= fooa \r\n\ta \\)\n\tb\r\n-x_9 != \\\n \\\n #c \\\n d\r\n$(a b):: %.o\n>endif\r\noverride define X =\r\n$(a b): .PHONY\r\n \t&: d\t\\\nefine\\\n\\\n:=\\\n\\\n$( a\\:b$(a b) \\\n\r\n")) ∷  -- random-539
    (codes ".RECIPEPREFIX = $$\r\n", AddLine (BeforeVar None (codes ".RECIPEPREFIX")) (NewRule [] Single []), Refused (BadArgument field.Targets)) ∷  -- random-540
    (codes ".RECIPEPREFIX = e\r\n\tt: u\r\nb:: #\\\\\nat: u\r\nifdef=\r\nexport private define X =\r\na:${g(} $(a b)#\0\r\nA ?=\\\n\t$(m \\\n n) \r\n$(a b):   | # \\\r\n $\\\na?=\n?\r\n\telse", ChangeValue (One None) (codes ".RECIPEPREFIX") (edits.Append (codes "2 3 ;")), Refused Reserved) ∷  -- random-541
    (codes "\t\\\nt1  :::= # x ; y : z = 1\n\\\\\n\\\\\n: \\\n;>:X$\0)\nfoo a : $(q:;=|) :   ;  \\\n# \r\n\n):\\\\\n\t{\\\\\n\nx.o y: \nendif\n \\\n\tfoo\t$(s\\): : -include2 \n>endef\\\n\n.PHONY &:$$ $(q:;=|)  .PHONY | \t\r", SetRecipe (Some 1) (codes "y") (ByNumber 4294967295) (codes "$("), Refused Absent) ∷  -- random-542
    (codes "endef x\r\n%.c %.o \\\n: ifdef = t \nfoo: $(s\\)\n>endif\n\\\n\t\n$(f {):override::= =.PHONY\n.PHONY:a&b  $x ${g(}\\\n\nb\\( ${\n$(p #) $(u \\\n:CC!= \n\tc: : $x\t%.c $(f {) # x ; y : z = 1\np}ivate define:=\\\n\\\nfoo\tfoo", AddLine (AfterVar None (codes ">q")) (NewRule [] Double []), Refused (BadArgument field.Place)) ∷  -- random-543
    (codes "| \\\n   &: \\\n$(q:;=|) # \r\nY :::= =\\\n\\\n\nendif\r\n${\nc}::\\\n$$ $(p #) ${g | \\\n${c}\\\n\t\\\r\n# x ; y : z = 1\r\na : $(p #) $(q:;=|) \n", AddRecipe None (codes "a") Last (codes " a"), Becomes (codes "| \\\n   &: \\\n$(q:;=|) # \r\nY :::= =\\\n\\\n\nendif\r\n${\nc}::\\\n$$ $(p #) ${g | \\\n${c}\\\n\t\\\r\n# x ; y : z = 1\r\na : $(p #) $(q:;=|) \n\t a\n")) ∷  -- random-544
    (codes "endif\r\n${g(}&:.PHONY : foo \r\n \r\n-x_9+=   #\\\\\\\n\r\n\t$x ::: b\\\n\\\nx.o  |e$#f \\\nc\\\n\r\n\ta\\\r\n>$(q:;=|): : a&b \tfoo \\\n  $(a b)\\\n| $(a b)\\\n\t\\\r\n$(f {)\r\n\tendef", AddLine Bottom (NewAssign (codes ">q") Immediate (codes ".PHONY $x")), Refused (BadArgument field.Name)) ∷  -- random-545
    (codes ".RECIPEPREFIX =\\\n>>\r\n\t\nx.o: -include2 \r\n", RemoveLines (OfRule None (codes "x.o")), Becomes (codes ".RECIPEPREFIX =\\\n>>\r\n\t\n")) ∷  -- random-546
    (codes "a: t \tc\n\n\n%.c :::\\\r\na&b :\\\n\ta&b\\\n\t\\\r\n$(p #) X\n# c\n\t\\\nc: : $(a b) | $x -inc!lude2\t# x ; y : z = 1\n", RemoveLines (OfRule None (codes "a")), Becomes (codes "\n\n%.c :::\\\r\na&b :\\\n\ta&b\\\n\t\\\r\n$(p #) X\n# c\n\t\\\nc: : $(a b) | $x -inc!lude2\t# x ; y : z = 1\n")) ∷  -- random-547
    (codes ".RECIPEPREFIX = X\r\noverride undefine X", ChangeValue (One (Some 2)) (codes ".RECIPEPREFIX") (edits.Append []), Refused (BadArgument field.Value)) ∷  -- random-548
    (codes ">\n>$(\nc\\\n\\\n${g(} :$(s\\) $(q:;=|)  ${c}\n\ta\\\\\nb  b \t: %.c \n\tendif#\n.Z = 1\n.\n %.o: : \t\t# c", ChangePrereqs (Some 0) (codes "b") (RemovePrereq (codes "%.c")), Refused NoSuch) ∷  -- random-549
    (codes "t1 :=\\\n${g(}#\\\\\r\nA  != \t${g(} #\r\na: \n\\\n# c\r\n", RenameTarget (codes "a") (codes "$(f {)"), Becomes (codes "t1 :=\\\n${g(}#\\\\\r\nA  != \t${g(} #\r\n$(f {): \n\\\n# c\r\n")) ∷  -- random-550
    []

answers_11 : map (λ row. outcome row.0 row.1) rows_11 ≡ map (λ row. row.2) rows_11
answers_11 = refl

abbrev rows_12 : List (List ℕ × Edit × Outcome)
rows_12 =
    (codes ".RECIPEPREFIX = a\n%.o -include2: : $x ${c} $(a b) ;a #\0\n\t \nfoo: \n\t \n\tdefine Q\nelse ifdef Q\n\t$(\n define X =\n\\\n# \r\n%.c :a&b \t: \t \t", ChangePrereqs None (codes "foo") (AddPrereq true (codes "%.c")), Becomes (codes ".RECIPEPREFIX = a\n%.o -include2: : $x ${c} $(a b) ;a #\0\n\t \nfoo: | %.c \n\t \n\tdefine Q\nelse ifdef Q\n\t$(\n define X =\n\\\n# \r\n%.c :a&b \t: \t \t")) ∷  -- random-551
    (codes "override?=  # c\r\nprivate CC:=  \n>q+=  #\0\n.PHONY  ::  a.b \\\r\n +=\tx  y =\\\n\\\n\r\n\t\\\noverride define F \\\n\n>q\\\n\t\\\r\n:::= c %.ofoo #c \\\n d\nA\t+= $  \t\r#\n define :::=  # \r\n", RenameTarget (codes ".PHONY") (codes "b"), Becomes (codes "override?=  # c\r\nprivate CC:=  \n>q+=  #\0\nb  ::  a.b \\\r\n +=\tx  y =\\\n\\\n\r\n\t\\\noverride define F \\\n\n>q\\\n\t\\\r\n:::= c %.ofoo #c \\\n d\nA\t+= $  \t\r#\n define :::=  # \r\n")) ∷  -- random-552
    (codes "e\\\n\r\n%.o:$x # \\\n\nelse\r\n>endif\r\n>$(s\\): :a  $$ |.PHONY\\\n\t\\\r\na&b#\\\\\\\n\r\n#&endef\\\\\n\n\\)\r\nendef", RemoveLines (OfRule None (codes "%.o")), Becomes (codes "e\\\n\r\nelse\r\n>endif\r\n>$(s\\): :a  $$ |.PHONY\\\n\t\\\r\na&b#\\\\\\\n\r\n#&endef\\\\\n\n\\)\r\nendef")) ∷  -- random-553
    (codes "b: $(p #)\ta&b# \\\nelse ifdef Q\nx.o: : $(a b) \nfoo: $$\n$ \\endef\\$>", AddLine (BeforeRule (Some 2) (codes "foo")) (NewRule (codes "t $(f {)") Double (codes "a %.c")), Refused NoSuch) ∷  -- random-554
    (codes "foo: a&b\n\t\\\nifeq (a,$(b\n  &:endef  ::=  \nexport o-$(a b) :=  a\\:b foo#\0\n", ChangePrereqs None (codes "foo") (AddPrereq false (codes "a")), Becomes (codes "foo: a&b a\n\t\\\nifeq (a,$(b\n  &:endef  ::=  \nexport o-$(a b) :=  a\\:b foo#\0\n")) ∷  -- random-555
    (codes "a::\\\n|\\\n\n$(p #): %.o \t$(p #)\r\n\\\nA\\\n\t!= $(a b) =$(a b) \\\n  #\r\nfoo: .PHONY\n\tifdef Z\n.echo a # b\n>q ?=  \nx.o y: -include2\t$(f {)\n\tt: u\nifdef A\r\nfoo: x.o \\\n$(f {)\n\ta\\\r\n>b\n.RECIPEPREFIX= >", AddRecipe None (codes "$(p #)") Last (codes "e f \\ g"), Refused RecipePrefix) ∷  -- random-556
    (codes "a.b :::= \\\r\n # x \t\\\n y : z = 1\r\n-include2\t$$ &:: | $x \r\n.RECIPEPREFIX::=\\\n>\r\n\tZ = 1\r\n\ty\r\r\nifneq\r\n}\t\\\n", AddLine (AfterVar (Some 4294967295) (codes "Z")) (NewRule [] Double (codes "$(p #) x.o")), Refused (BadArgument field.Targets)) ∷  -- random-557
    (codes " #c \\\n d\n${c}\t: -include2 -include2 \\\nb \na&b .PHONY:\\ \\\n$x $(q:;=|) $  ;  \0x.o%.c\nifdef!=  #\\\\\\\n\n\tt: u\nendif\nifdef\\\nB\nprivate", SetRecipe None (codes "${c}") (ByNumber 2) [], Refused Absent) ∷  -- random-558
    (codes "export private define .RECIPEPREFIX\r\n\ta\\\\\r\nfoo\t$$&:  \n\t$(\r\nendif\r\n", AddLine Bottom (NewAssign (codes ">q") Simple (codes "-include2")), Refused (BadArgument field.Name)) ∷  -- random-559
    (codes "foo: %.o \\\na&b\n\ta\\\\\nifndef X # c\n$(f {) &:$(p #)\\\n:  ;\\\r\n$(a b) \n$(a b)::: $x\tfoo  \n\techo a # b\n", ChangePrereqs None (codes "foo") (RemovePrereq (codes "a&b")), Becomes (codes "foo: %.o\n\ta\\\\\nifndef X # c\n$(f {) &:$(p #)\\\n:  ;\\\r\n$(a b) \n$(a b)::: $x\tfoo  \n\techo a # b\n")) ∷  -- random-560
    (codes "t:%.c\\\r\na | $(s\\) a # \\\r\n\t\\\na.b::= x.o\r\nendeb+= \\\n\t#\\\\\\\n\r\n : -x_9\\\r\n==\\\r\n\r\nt :  ; b.c \r\n\t\\\n%.o : a\r\n\\}?=$\r\nb(\t\\\ndefine|=\\!\\\\", ChangeValue (One None) (codes "\\}") (edits.Set (codes "2 3 .PHONY")), Refused (BadArgument field.Name)) ∷  -- random-561
    (codes "%.c: $(s\\) $(f {)\r\n$$(?endef\r\n\\\\\n\r\n|\ra#X)(\r;\r\nX\r\n  ! a\n\\\n)&\r\n\r\n# x ; y : z = 1\r\n\tendif\r\nt1 !=\ta&b \tc t#\\\\\\\n\r\nifdef A\r\nendif # c\r\n", AddRecipe None (codes "%.c") Last (codes "y # z"), Becomes (codes "%.c: $(s\\) $(f {)\r\n\ty # z\r\n$$(?endef\r\n\\\\\n\r\n|\ra#X)(\r;\r\nX\r\n  ! a\n\\\n)&\r\n\r\n# x ; y : z = 1\r\n\tendif\r\nt1 !=\ta&b \tc t#\\\\\\\n\r\nifdef A\r\nendif # c\r\n")) ∷  -- random-562
    (codes ".RECIPEPREFIX = >\noverride undefine X\r\n\tx\r\nY! := \0\n", ChangeValue (One (Some 4294967295)) (codes ".RECIPEPREFIX") (edits.Append (codes ";")), Refused Reserved) ∷  -- random-563
    (codes ".echo a # b\nelse\nCC::= \t \\\n#\\\\\n\tendif\nb:$(p #) : \\\r\n $(q:;=|)\t$x %.o \nendif\n\t ", ChangeValue (One None) (codes "CC") (edits.Set (codes "=")), Becomes (codes ".echo a # b\nelse\nCC::= \t \\\n=#\\\\\n\tendif\nb:$(p #) : \\\r\n $(q:;=|)\t$x %.o \nendif\n\t ")) ∷  -- random-564
    (codes "\t\\\n &:.RECIPEPREFIX :=  \\", AddLine Bottom (NewAssign (codes "e") Append (codes "\\$x")), Refused OpenLine) ∷  -- random-565
    (codes "\r\n$$ override&: %.o \\\n \\\n $(q:;=|) |  # \\\n\tendef\n\techo a # b\n${g(} :\t${c}  # \\", RemoveLines (OfRecipe None (codes "override") (ByNumber 1)), Refused Reserved) ∷  -- random-566
    (codes "t1 ?=c \t\n $$ x=1 :$(s\\) \ta&b \ta \n>$(X) =${g(}\\\\\n# \\\n%.c : a $(a b)  $(q:;=|) ; ${g(} $# \n unexport Y\n$(q:;=|): #\n\t\\\nendif\nendif\n override :::= \\#\\\r\n", ChangeValue (One (Some 4294967295)) (codes "a.b") (edits.Append (codes "; a\\:b")), Refused NoSuch) ∷  -- random-567
    (codes "\t\n.RECIPEPREFIX:::= \n\t\n$(a b) &:\\\n-include2 $x#\\\\\n\t \n-x_9?= \\\r\n  \\\n\na&b &: ${c} \n \\\n\t${c}: | b ; \\\n\t\\\r\n# \\\nifdef\\\nB\n\t\\\nelse ifdef Q\na : :  c \t;\\\n\t\\\r\n%.o a&b \n\tifdef Z", AddLine Bottom (NewAssign (codes "override") Recursive (codes "$(p #) %.o")), Refused RecipePrefix) ∷  -- random-568
    (codes "A=c \\\n  \\\n\t \n", ChangeValue (One None) (codes "A") (edits.Append (codes "b t")), Becomes (codes "A=c b t \\\n  \\\n\t \n")) ∷  -- random-569
    (codes ".RECIPEPREFIX = f\r\nifdef ?=$(f {) \0${c} \r\nendif # c\r\n>\\\n\r\nx.o y: $$ %.o", SetRecipe None (codes "x.o") (ByNumber 4294967295) (codes "q:=1"), Refused Absent) ∷  -- random-570
    (codes "-include2 ::: ${c} %.o|  -include2\n>=\\)$#:{\r\nX$:!= $(q:;=|) ${g(} a&b \t\nx.o y: \n\tt: u\n>endef !=  b  $(a b) $(f {)  #\\\\\\\n\na: -include2\n \\\n\n>\n\t# c\nendef\nifeq (a,$(b\na: t ${g(}\n\\\n\t\n\t", AddLine (AfterVar (Some 4294967295) (codes "X$:")) (NewAssign (codes "t") PosixSimple []), Refused (BadArgument field.Place)) ∷  -- random-571
    (codes ">q!=\\\n$x ${u# \r\r\n \\\n\t\\\nb}:\t\r:= =\r\n :: A += \\\n   # x ; y : z = 1\r\na: x.o $x\n\r\n-x_9 += t $x \r\nfoo: t \t.PHONY\n>t: u\r\na&b :\\\n\\\nx.o \tx.o \r\n>\\\n\r\n\tendif\r\n", ChangePrereqs None (codes "foo") (AddPrereq false (codes "foo")), Becomes (codes ">q!=\\\n$x ${u# \r\r\n \\\n\t\\\nb}:\t\r:= =\r\n :: A += \\\n   # x ; y : z = 1\r\na: x.o $x\n\r\n-x_9 += t $x \r\nfoo: t \t.PHONY foo\n>t: u\r\na&b :\\\n\\\nx.o \tx.o \r\n>\\\n\r\n\tendif\r\n")) ∷  -- random-572
    (codes "private CC\\\n:= \\\r\n  \t\nta\\\r\n>b\n$x\\\n\\\n:: x.o :$$ \n\tZ = 1\nt1\t?= .PHONY$(p #) $x \t# x ; y : z = 1\nprivate \t>q=foo ${g(}.PHONY\\\n\t\nt$(\n", RemoveLines (OfAssign None (codes "t1")), Becomes (codes "private CC\\\n:= \\\r\n  \t\nta\\\r\n>b\n$x\\\n\\\n:: x.o :$$ \n\tZ = 1\nprivate \t>q=foo ${g(}.PHONY\\\n\t\nt$(\n")) ∷  -- random-573
    (codes "foo: $(f {) \\\n \\\n $$\n.else\nload x\n#\nY ?=\t  \n>else\r\n-include2 \\\nb& &:\\\n\tCC := \r\n\\\n\t\ndefine \r\n", ChangeValue (One None) (codes "Y") (edits.Append (codes "c")), Becomes (codes "foo: $(f {) \\\n \\\n $$\n.else\nload x\n#\nY ?=\t  c\n>else\r\n-include2 \\\nb& &:\\\n\tCC := \r\n\\\n\t\ndefine \r\n")) ∷  -- random-574
    (codes "load x\nea \\\n\tb\n>$(p #) ::: ${c} \\\n$x \t$(s\\) \nendef !=\\\n\\\n\\\r\n", ChangeValue (One None) (codes "endef") (edits.Set (codes "a c")), Becomes (codes "load x\nea \\\n\tb\n>$(p #) ::: ${c} \\\n$x \t$(s\\) \nendef !=\\\n\\\na c\r\n")) ∷  -- random-575
    (codes ">a\\$=\n", RemoveLines (OfRecipe None (codes "-include2") (ByNumber 4294967295)), Refused NoSuch) ∷  -- random-576
    (codes ">q != $$ # x ; y : z = 1\r\nfoo ::  t :\\\n\ta\\\r\n\nfoo: \n>a\\\\\nx.o  &: a :t\t# x ; y : z = 1", RemoveLines (OfAssign None (codes ">q")), Refused (BadArgument field.Name)) ∷  -- random-577
    (codes " $(p #) foo : c \t$x \n-x_9 :=\t\n>=\\\n\r#&\n\n", SetRecipe None (codes "$(p #)") (ByNumber 2) (codes "q:=1"), Refused Absent) ∷  -- random-578
    (codes "#\0\r\n$(p #)\t%.o::\\\n\r\nc \\\r\n : :\\\nfoo\r\n\\\n${g(}  &:  |\\\r\n\\\n\\\n#c \\\n d\r\n #\\\\\\\n\r\n\telse\r\nY+=$\\\r\n a&b ", ChangePrereqs None (codes "$(f {)") (RemovePrereq (codes "${g(}")), Refused NoSuch) ∷  -- random-579
    (codes "x.o y: \n\tt: u\r\n>q \t?=$(f {) \r\n?\t\\\n\r\noverride endef +=${c} #c \\\n d\r\n${g(} &: \\\r\n  \\\n \\\n \r\n$(a b):  \t|${g(} $(p #) \r\n", RemoveLines (OfRule None (codes "x.o")), Refused (SharedRule 2)) ∷  -- random-580
    (codes "foo: .PHONY\n>if\\\nf Z\n", RemoveLines (OfRule (Some 1) (codes "foo")), Becomes (codes ">if\\\nf Z\n")) ∷  -- random-581
    (codes ".RECIPEPREFIX = a\r\nx.o:\t$\\\n#c \\\n d\r\n\\\no-$(a b) :::==$(q:;=|) \n#\0\n\tendef\r\n\techo a # b\n\\\nifneq\r\n++=x.o2 3a \r\nfoo: a&b \\\r\n $$\noverride:= %.o\\\\\\\n${u${c} # c\n", ChangePrereqs None (codes "foo") (AddPrereq false (codes "a&b")), Refused Already) ∷  -- random-582
    (codes ".RECIPEPREFIX = Y\r\n# c\r\nfoo: c a\nifneq\n>#c\n>t: u\n>echo a # b\n$x::: %.o \\\n  | foo \r\n \r\nfoo:%.o |$(a b) a&b \r\n>q \\\n \\\n != $(s\\) #\\\\\\\n", ChangePrereqs None (codes ">t") (AddPrereq true (codes "${g(}")), Becomes (codes ".RECIPEPREFIX = Y\r\n# c\r\nfoo: c a\nifneq\n>#c\n>t: u | ${g(}\n>echo a # b\n$x::: %.o \\\n  | foo \r\n \r\nfoo:%.o |$(a b) a&b \r\n>q \\\n \\\n != $(s\\) #\\\\\\\n")) ∷  -- random-583
    (codes " \\\n\n$x:$ $=\t; \n.PHONY a: \\\r\n a :\\\n\t%.o\t${g(} ; $x\n.\\\n\n -x_9 ::= -include2\nfoo: %.o\n#\na:\t%.c\n", RemoveLines (OfRule (Some 1) (codes "a")), Refused (SharedRule 2)) ∷  -- random-584
    (codes "e \nifdef A\nifdef A\nifneq\n>\\\n\n \\\n\toverride ?= \\\n-include2 \nendif\n", RemoveLines (OfAssign (Some 2) (codes "override")), Refused NoSuch) ∷  -- random-585
    (codes "$:\t|  a&b \tb#\\\\\r\nfoo::: $(q:;=|) : x=1 .PHONY| \\\na \\\r\n $$ \r\n-x_9 :::=  \r\n\r\noverride undefine X\r\nendef", ChangeValue (One (Some 0)) (codes "-x_9") (edits.Set (codes ": :")), Refused NoSuch) ∷  -- random-586
    (codes " export private define D\n$(p #):-include2  $(a b)#\\\\\\\n\n\\\n$(f {)&:: \t;\\\r\n%.c \nendif # c\n\t#\\\\\n>a\\\r\n>b\nifdef\\\nB\n$(s\\):  \\\n\no-$(a b) ?=\\\n\\\n${g(}  $\\\r\n x  y# c\n", RemoveLines (OfAssign (Some 0) (codes "X$ ")), Refused (BadArgument field.Name)) ∷  -- random-587
    (codes "\\\n# \r\n\tx\r\n\tifeq (a,$(b\nx.o y: \n\ta\\\r\n>b\n ${g(}:  \r\nendif\r\n &:a&b \\\r\\\n : $\\)+  b foo ", SetRecipe None (codes "${g(}") (ByNumber 1) (codes "a\\"), Refused (BadArgument field.Line)) ∷  -- random-588
    (codes "\n$?#(XX\n \\\n\tb: b : .PHONY  c ${g(} \\\r\n \nexport X =$$\\\n\\\n\r\n\ta\\\r\n>b", RemoveLines (OfRule None (codes "b")), Becomes (codes "\n$?#(XX\nexport X =$$\\\n\\\n\r\n\ta\\\r\n>b")) ∷  -- random-589
    (codes "b: -include2:  \\\n \\\n #\0\n>\nx.o y: $(p #) c\n>endif\r\n\tx\nendef # c\r\n\r\ndefine Q\r\nendef\\\n\r\nX =\\\n$(p #)=\\\n\t\\\r\n\\# #\0\\\n", AddLine (BeforeVar None (codes "define")) (NewAssign (codes "-x_9") PosixSimple (codes ":")), Refused NoSuch) ∷  -- random-590
    (codes "a: b\nifndef X # c\n>-x_9\\\n\t:::= \0 1 \noverride define F \\\n\n>endif\n : Y :::=  \ndefine .RECIPEPREFIX\na: $$\n>y\r\n$$\\\n\t\\\r\n$(s\\):$x \\\n|${g(} \\\n \\\n -include2\nendef#c\neendif\n", ChangePrereqs None (codes "a") (RemovePrereq (codes "$(p #)")), Refused Absent) ∷  -- random-591
    (codes "a: c\n\tendif\n\tZ = 1\r\nx.o y: $(a b)\n\tifeq (a,$(b\n\t#c\n \r\nexport\tCC \t:= \\$x \r\n\t\\\na&b::: x.o \n\tt: u\n \nifdef A\r\n", ChangeValue (One None) (codes "CC") (edits.Append (codes "${c}")), Becomes (codes "a: c\n\tendif\n\tZ = 1\r\nx.o y: $(a b)\n\tifeq (a,$(b\n\t#c\n \r\nexport\tCC \t:= \\$x ${c} \r\n\t\\\na&b::: x.o \n\tt: u\n \nifdef A\r\n")) ∷  -- random-592
    (codes ">a \\\n\tb\n:\\?\nexport  CC \\\n!= \nfoo $(f {) &:: \t$(q:;=|) \ta&b\n\\#x!= \nifdef!= \\\r\n .PHONY#\nfoo: $(f {) c\n\tendif\neecho a # b\n :\\\nX !=\\# \n>", ChangePrereqs None (codes "x.o") (AddPrereq true (codes "-include2")), Refused NoSuch) ∷  -- random-593
    (codes "-include2:$(s\\) $(a b)\t$(q:;=|) \r\n \\\n\t$(a b): x.o:\\\n$(p #)| $(f {) .PHONY \r\n \\\n\t-x_9\\\n\t:::= \\ $(s\\) \\\r\n # \\\n>a \\\n\tb\n\t\nat: u\r\na \\\n \\\n :\t%.o c \n\nifdef A\r\n", AddRecipe None (codes "-include2") Last (codes "y # z"), Becomes (codes "-include2:$(s\\) $(a b)\t$(q:;=|) \r\n\ty # z\r\n \\\n\t$(a b): x.o:\\\n$(p #)| $(f {) .PHONY \r\n \\\n\t-x_9\\\n\t:::= \\ $(s\\) \\\r\n # \\\n>a \\\n\tb\n\t\nat: u\r\na \\\n \\\n :\t%.o c \n\nifdef A\r\n")) ∷  -- random-594
    (codes "${g(}:x.o\t$(a b)\r\na : : \\\n $x \t$x\t\r\ndefine .RECIPEPREFIX\r\na\\ b \t${c} :X$ += 11 : \r\n\t\\\n :-x_9?= ; \r\n\tt: u\r\n-include2 : x.o\\\nb& # c\r\n\tendef\r\nta\\\\\r\n", ChangePrereqs (Some 4294967295) (codes "${g(}") (AddPrereq false (codes "$$")), Refused RecipePrefix) ∷  -- random-595
    (codes "endef :::=\\\n\t\\\r\n$(q:;=|) \\\r\n $\\\n  -include2 \t\n>y\r\n \n", ChangeValue (One None) (codes "endef") (edits.Set []), Becomes (codes "endef :::=\\\n\t\\\r\n\n>y\r\n \n")) ∷  -- random-596
    (codes "t1::: ${c} \t$(s\\)\r\n", RemoveLines (OfAssign None (codes "o-$(a b)")), Refused (BadArgument field.Name)) ∷  -- random-597
    (codes "%.c\tfoo:: %.c\n\tifdef Z\r\n=a\n\n&a\r\nifndef X # c\r\n", AddLine (AfterVar None (codes "define")) (NewRule (codes "a\\ b") Single (codes "a&b")), Refused (BadArgument field.Targets)) ∷  -- random-598
    (codes "a : b %.c | $(s\\) \n>q\t?= \t$\\\n  a\\:ba\\:b\t\n$(q:;=|) \t${g(}: $(f {) $x |  \n", ChangeValue (One (Some 2)) (codes ">q") (edits.Append (codes "a\\:b c")), Refused (BadArgument field.Name)) ∷  -- random-599
    (codes "endef\\\n\nx=1 $x: ${g(}\t${g(}\\\n\t$(p #) ; ${g(} \n$(q:;=|): : \\\n  c\\\n\t${g(}#\0\n", ChangeValue (One (Some 0)) (codes "x") (edits.Append (codes "$(q:;=|)")), Refused NoSuch) ∷  -- random-600
    []

answers_12 : map (λ row. outcome row.0 row.1) rows_12 ≡ map (λ row. row.2) rows_12
answers_12 = refl

abbrev rows_13 : List (List ℕ × Edit × Outcome)
rows_13 =
    (codes " \\\n\texport\ta.b ::= a %.o \\ \noverride !=\\$x = #c \\\n d\nx.o :.PHONY # x ; y : z = 1\n\n\t?\nX\r\n+:define!\n\ta\\\n\tt1+= $  $ \\$Xx # x ; y : z = 1\n).o:::-include2 \n\t \n\\&\\\n=:! ?b\r&}\n\t# \\\n", RemoveLines (OfAssign (Some 2) (codes "a.b")), Refused NoSuch) ∷  -- random-601
    (codes "X$: =  \nendef\\\n\nifdef\\\nB\n", RemoveLines (OfAssign None (codes "X$:")), Refused (BadArgument field.Name)) ∷  -- random-602
    (codes ".RECIPEPREFIX = >\r\nifneq", AddLine (BeforeVar (Some 0) (codes ".RECIPEPREFIX")) (NewRule [] Single (codes "$(q:;=|)")), Refused (BadArgument field.Targets)) ∷  -- random-603
    (codes "+ := a\\ \\\n\\\n\r\nt c: x.o %.o\\\n|.PHONY\r\na: ${g(}\n\net: u\nifneq\r\ndefine= b \r\nCC \t:= ${c} \r\n", RemoveLines (OfRecipe None (codes "et") (ByNumber 2)), Refused Absent) ∷  -- random-604
    (codes "a\\ b : ${g(} $(q:;=|) ", AddLine Bottom (NewRule (codes "%.c") Single (codes "%.o x.o")), Becomes (codes "a\\ b : ${g(} $(q:;=|) \n%.c: %.o x.o\n")) ∷  -- random-605
    (codes ".RECIPEPREFIX = d\n\tendef\nelse ifdef Q\nexport ifdef = foo;  foo \n>q =$(definea b) \\\n  $\\\n 1  \nb &: $(p #) \n \\\n\tendif\n$(f {): $; $(p #) \na&b  .PHONY:::${c}  x.o $(a b)\t| \\\r\n foo \\\n#\\\\\\\n\nfoo: $(q:;=|)\nex\n>endif", ChangePrereqs None (codes "b") (RemovePrereq (codes "$(p #)")), Becomes (codes ".RECIPEPREFIX = d\n\tendef\nelse ifdef Q\nexport ifdef = foo;  foo \n>q =$(definea b) \\\n  $\\\n 1  \nb &: \n \\\n\tendif\n$(f {): $; $(p #) \na&b  .PHONY:::${c}  x.o $(a b)\t| \\\r\n foo \\\n#\\\\\\\n\nfoo: $(q:;=|)\nex\n>endif")) ∷  -- random-606
    (codes "${g(} &: $(a b)\\\r\n\n\\\n\t\n>y\r\n>echo a # b\nY!=\t1 #\0\n\t$(\n$$ x.o &:: $(f {)  t $(p #)\n", ChangePrereqs None (codes "x.o") (AddPrereq false (codes "${c}")), Becomes (codes "${g(} &: $(a b)\\\r\n\n\\\n\t\n>y\r\n>echo a # b\nY!=\t1 #\0\n\t$(\n$$ x.o &:: $(f {)  t $(p #) ${c}\n")) ∷  -- random-607
    (codes "define D\n\0t ", AddLine Bottom (NewAssign (codes "t") Recursive (codes "foo")), Refused OpenDefine) ∷  -- random-608
    (codes "CC != \\\n   \nA\t:::= \\\n\t\n$(a b) :\\\n\t\\\r\n%.c : a&b |  # x ; y : z = 1\nx.o y: \n.echo a # b\n-include2: $(f {) $$; \n\ta\\\n\tfoo : t \n$(f {)&: foo\tt t #\0\na: $x \t-include2\n", ChangePrereqs (Some 4294967295) (codes "y") (RemovePrereq (codes "$(f {)")), Refused NoSuch) ∷  -- random-609
    (codes "\r\nvpath %.c a\n# x ; y : z = 1\n> \nendef := $(p #) #\\\\\\\n\n\tendif\neifdef Z\r\nfoo: \net: u\r\n\\\n\\\n!endefdefine\n", ChangePrereqs None (codes "foo") (RemovePrereq (codes "%.c")), Refused Absent) ∷  -- random-610
    (codes ".RIPEPREFIX | :\r\nde\r\nine = ${\r\ng(} ", RemoveLines (OfAssign None (codes "ine")), Becomes (codes ".RIPEPREFIX | :\r\nde\r\ng(} ")) ∷  -- random-611
    (codes "${c}:\\\r\n\n${c}\tfoo: : \\\n  | a&b # c\r\nt: $(a b): ; x  y\\\n$(q:;=|)# x ; y : z = 1\n\ta\\\r\n\ty\r\n # x ; y : z = 1", RemoveLines (OfRule None (codes "t")), Becomes (codes "${c}:\\\r\n\n${c}\tfoo: : \\\n  | a&b # c\r\n # x ; y : z = 1")) ∷  -- random-612
    (codes ".RECIPEPREFIX = >\n", AddLine (AfterVar None (codes ".RECIPEPREFIX")) (NewRule [] Double []), Refused (BadArgument field.Targets)) ∷  -- random-613
    (codes "${c: .PHONY:$(p #): $$ \n\tx\n\ta\\X>endef\n", AddLine Bottom (NewAssign (codes ">q") Conditional (codes "c $$")), Refused (BadArgument field.Name)) ∷  -- random-614
    (codes "$(q:;=|) :: ${c} :${g(} \tx.o\\\n\t\\\r\n\n>a\\\nendef\n \\\n \\\n : t1\t!= x  y \n\t#c\nx.o y: foo  a\n>else\n\tx\n", ChangePrereqs None (codes "y") (RemovePrereq (codes "a")), Becomes (codes "$(q:;=|) :: ${c} :${g(} \tx.o\\\n\t\\\r\n\n>a\\\nendef\n \\\n \\\n : t1\t!= x  y \n\t#c\nx.o y: foo\n>else\n\tx\n")) ∷  -- random-615
    (codes ">a\\\n\t\\\n$(a b): %.c |${g(}\t%.o \nA \\\n  ?=$$\r #\0\n>y\r\n \nelse\n\ta\\\r\n>b\n\na&b :%.c \\\n \\\n ; \t \\\n \\\n #\\\\\n", SetRecipe None (codes "a&b") (ByNumber 1) (codes "cÿ"), Refused Absent) ∷  -- random-616
    (codes "A=  x o  %.c\0 \n-include b c${g(} ::: ", AddLine Bottom (NewRule [] Single (codes "$(a b)")), Refused (BadArgument field.Targets)) ∷  -- random-617
    (codes "b \\\n::  %.o\t; \t= \t; \n\ta\\\\\n", AddRecipe None (codes "b") Last (codes "x"), Becomes (codes "b \\\n::  %.o\t; \t= \t; \n\ta\\\\\n\tx\n")) ∷  -- random-618
    (codes "\t%.c :: ifdef\\\n::= :  \nX \\\n  ?=$(p #) $\n", AddLine (AfterVar None (codes "X")) (NewAssign (codes "ifdef") Shell (codes "1")), Becomes (codes "\t%.c :: ifdef\\\n::= :  \nX \\\n  ?=$(p #) $\nifdef != 1\n")) ∷  -- random-619
    (codes "$(s\\): :  \nta\\\\\n \n\ty\r\nundefine X\n>private override :::= -include2x.o \t# \r\n.RECIPEPREFIX= >>\n :override := ; #\\\\\\\n\nendef\nt1 ::= \n", ChangeValue (One None) (codes "t1") (edits.Set (codes "|")), Becomes (codes "$(s\\): :  \nta\\\\\n \n\ty\r\nundefine X\n>private override :::= -include2x.o \t# \r\n.RECIPEPREFIX= >>\n :override := ; #\\\\\\\n\nendef\nt1 ::= |\n")) ∷  -- random-620
    (codes " \\\n\tifdef +=   \n", ChangeValue (One (Some 4294967295)) (codes "ifdef") (edits.Set []), Refused NoSuch) ∷  -- random-621
    (codes "override !=  \r\nea\\\r\n>b\r\n>a\\\\\r\na\\= := \ta\\:b\t\r\n\t\r\noverride ?= .PHONY $(m \\\n n)\\\n\\\n\\\\\\ \r\n-include2 &: a&b\t$x ${c} # x ; y : z = 1\r\nc: ${c} %.o $x \\\n#c \\\n d", SetRecipe None (codes "c") (ByNumber 1) (codes ">"), Refused Absent) ∷  -- random-622
    (codes " \\\n\t$(s\\) \t:: X?=\\\r\n \t\nendef\n#c \\\n d\n : t1 :::=  \\\n \\\n \ndefine \t=  \n\t#c\n\t\\\nelse", ChangeValue (One (Some 0)) (codes "define") (edits.Set (codes "1 %.c")), Refused NoSuch) ∷  -- random-623
    (codes "%.c \t$$ :::  | -include2#\0\r\nexport $(X)\\\n\t:= c2 3 x  y\t\r\n>endif\r\nendef  := \\\n#\0\r\n!\n:\\\\\n(\n\\\n\\\\\n#define\t:\r\n%.c ${c} :\r\ndXefine D\r\n", RenameTarget (codes "%.c") (codes "%.o"), Becomes (codes "%.c \t$$ :::  | -include2#\0\r\nexport $(X)\\\n\t:= c2 3 x  y\t\r\n>endif\r\nendef  := \\\n#\0\r\n!\n:\\\\\n(\n\\\n\\\\\n#define\t:\r\n%.o ${c} :\r\ndXefine D\r\n")) ∷  -- random-624
    (codes "override define F \\\n\n.PHONY: :\\\n\t$x\\\n\\\n$(p #) \\\n  $$ | $(q:;=|)\t$$ \nprivate \to-$(a b) += $ \t${g(} \nY  !=$x \na: \ta&b ${c}\\\n\\\n#\0\n$x &: $(p #)|${g(} \n# x ; y : z = 1\nifdef A", RemoveLines (OfRule None (codes "$(q:;=|)")), Refused NoSuch) ∷  -- random-625
    (codes "c: $(q:;=|)\tt\\\r\n$(p #)\na.b += $(s\\) x  y 1 \\\r\n #\\\\\\\n\n", RemoveLines (OfRule (Some 1) (codes "c")), Becomes (codes "a.b += $(s\\) x  y 1 \\\r\n #\\\\\\\n\n")) ∷  -- random-626
    (codes "\tendef\n :\\\n\toverride =\\$x\\\\\\\n endef\nt1 ::= a&b-include2\\\r\n", AddLine (AfterVar None (codes "t1")) (NewRule (codes "$(s\\)") Single (codes "$$ %.c")), Refused OpenLine) ∷  -- random-627
    (codes ".RECIPEPREFIX = e\n>\n${c} : $(f {) \n\t-x_9 ?=$(s\\) # c\na: t\tx.o\n\ta\\\r\n>b\n # \r\nendif # c\no-$(a b) :::=  #\\\\\n\tA ::= \\\n\\\n\\\n\n", AddRecipe None (codes "a") Last (codes "q:=1"), Becomes (codes ".RECIPEPREFIX = e\n>\n${c} : $(f {) \n\t-x_9 ?=$(s\\) # c\na: t\tx.o\neq:=1\n\ta\\\r\n>b\n # \r\nendif # c\no-$(a b) :::=  #\\\\\n\tA ::= \\\n\\\n\\\n\n")) ∷  -- random-628
    (codes "$(f {) &::$(s\\) $$\ta&b| \\\r\n $(u \nifdef \\\n \\\n !=| ", ChangeValue (One None) (codes ".RECIPEPREFIX") (edits.Append (codes "b")), Refused Reserved) ∷  -- random-629
    (codes "foo: $(a b) $$\r\ndefine E # c\r\nb  %.c &: a.b \\\n!=$ \\\r\n\ndefine:=  \n-x_9 \t= \n>#c\n$x:\\\n\t\\\r\n$(s\\) %.o ${c}\r\n", RemoveLines (OfRule None (codes "foo")), Becomes (codes "define E # c\r\nb  %.c &: a.b \\\n!=$ \\\r\n\ndefine:=  \n-x_9 \t= \n>#c\n$x:\\\n\t\\\r\n$(s\\) %.o ${c}\r\n")) ∷  -- random-630
    (codes "$(f {) : $x\\\n\t\\\r\n:.PHONY $(a b) \n.x\n\\#x != \\\n\\\n\n>t&::  \n\ta \\\n\tb\na\\\n\n\t\nY! = t\\\n\t#\0\na.b:::= $(s\\) \\\\ t\n", RemoveLines (OfAssign None (codes "Y")), Refused NoSuch) ∷  -- random-631
    (codes "\r\n;(($ \r\nendef x\r\n$(s\\) :%.c foo\\\n\\\n$(a b) | \\\n \\\n ${c} ; %.o\\\r\nx.o foo  \r\na : : $(f {) \\\r\n x.o\noverride define E # c\r\nifneq\nendef != a&b\\\n\t\\\r\n;\\\\", RenameTarget (codes "foo") (codes "$(f {)"), Refused NoSuch) ∷  -- random-632
    (codes "\t\r\n${g(}::\tt $$ \\\n \\\n b ;\t \r\nY !=  \n$(a b):\\\n\t\\\r\n$(f {)#\\\\\r\nifdef A\r\n # x ; y : z = 1\n", AddRecipe None (codes "${g(}") Last (codes "cÿ"), Becomes (codes "\t\r\n${g(}::\tt $$ \\\n \\\n b ;\t \r\n\tcÿ\r\nY !=  \n$(a b):\\\n\t\\\r\n$(f {)#\\\\\r\nifdef A\r\n # x ; y : z = 1\n")) ∷  -- random-633
    (codes "$x &:  $(q:;=|)#\\\\\nendif\na: \nifdef A\n>q +=  \n \\\n\n+:= $#\n.PHONY %.o : X = $\\\n $(s\\) foo # c\n", ChangePrereqs None (codes "a") (RemovePrereq (codes "%.o")), Refused Absent) ∷  -- random-634
    (codes ".RECIPEPREFIX = >\n\\\n\t\n\t#\\\\\\\n\nX$ !=${g(} \n\t#\\\\\nprivate >q\\\n\t\\\r\n+= %.c \\\r\n \\$x \\\n#\0\na: .PHONY\nt\\\n\n", RemoveLines (OfAssign (Some 1) (codes "X$ ")), Refused (BadArgument field.Name)) ∷  -- random-635
    (codes ".RECIPEPREFIX = .\n-include2::\\\nx.o\\\n\t\\\r\n$(s\\)\\\n\t$(f {)| \\\n\t#\\\\\nt:b \\\n  $(p #)\t\n a.b :::= ${g(} $(w \\\n \na: %.o b\naZ = 1\na: $(f {)\n>endif\n:\r\n\\|>!:\t\\\n\\ #\nbdif # c\nfoo: t \\\n \\\n ${c}  a&b|$(s\\) \t-include2 ", ChangeValue (One None) (codes "aZ") (edits.Append (codes ": 2 3")), Becomes (codes ".RECIPEPREFIX = .\n-include2::\\\nx.o\\\n\t\\\r\n$(s\\)\\\n\t$(f {)| \\\n\t#\\\\\nt:b \\\n  $(p #)\t\n a.b :::= ${g(} $(w \\\n \na: %.o b\naZ = 1 : 2 3\na: $(f {)\n>endif\n:\r\n\\|>!:\t\\\n\\ #\nbdif # c\nfoo: t \\\n \\\n ${c}  a&b|$(s\\) \t-include2 ")) ∷  -- random-636
    (codes "x.o y: b foo\n>\\\n\n=(\0(\r\n )\n!+\r\n\t\na&b :\\\n\t$(s\\) $\t  $(a b)#\\\\\n # c\nexport X\nX|\nx.o y: a&b\nx.o y: a&b\nendif # c", ChangePrereqs (Some 2) (codes "y") (RemovePrereq (codes "a&b")), Becomes (codes "x.o y: b foo\n>\\\n\n=(\0(\r\n )\n!+\r\n\t\na&b :\\\n\t$(s\\) $\t  $(a b)#\\\\\n # c\nexport X\nX|\nx.o y:\nx.o y: a&b\nendif # c")) ∷  -- random-637
    (codes "X$: =\\\n\\\n\\# 2 3 ${u\\\n\t\n$(p #)&:a&b foo $(p #) \nx.o y: \n-x_9 \t:= \n>t: u\n", ChangePrereqs None (codes "y") (RemovePrereq (codes "${c}")), Refused Absent) ∷  -- random-638
    (codes "X$  ?= c  a&b\n\tX= b;\nprivate\\\nprivate  private X  !=\\\n$\\\n  $$${u \nfoo: \na$(\n.RECIPEPREFIX =\n", AddRecipe None (codes "foo") Last [], Becomes (codes "X$  ?= c  a&b\n\tX= b;\nprivate\\\nprivate  private X  !=\\\n$\\\n  $$${u \nfoo: \n\t\na$(\n.RECIPEPREFIX =\n")) ∷  -- random-639
    ([], AddLine Bottom (NewRule [] Single (codes "%.o ${g(}")), Refused (BadArgument field.Targets)) ∷  -- random-640
    (codes "x.o y: $$ \t$(a b)\n\t$(\n>endif\n\n\ta \\\n\tb", ChangePrereqs None (codes "x.o") (AddPrereq false (codes "a")), Becomes (codes "x.o y: $$ \t$(a b) a\n\t$(\n>endif\n\n\ta \\\n\tb")) ∷  -- random-641
    ([], AddLine (BeforeVar None (codes "X$ ")) (NewAssign (codes "override") Immediate (codes "t")), Refused (BadArgument field.Place)) ∷  -- random-642
    (codes ">q != $(\r\nifneq\r\nexport $(X)!= \\ \\# %.o# \r\r\na \t:${c} :%.o\\\n\t\\\r\n# x ; y : z = 1\r\n-x_9 ::=$(p #) $\\\n \r\n$x:\t\r\nfoo: $(q:;=|)\n>\r\nifneq\r\n.RECIPEPREFIX=# c", ChangeValue (One None) (codes "X") (edits.Set (codes ";")), Refused RecipePrefix) ∷  -- random-643
    (codes "foo: ${c}\n -x_9  :::= c # c\r\n\t \r\n\t\r\n\ndefine+!)$\\\\\n$\r\n\\\n#\\\\\r\noverride \tifdef::= \\# $(w \\\n", AddLine Bottom (NewAssign (codes "endef") Conditional (codes "$(a b) $(a b)")), Refused OpenLine) ∷  -- random-644
    (codes "define E # c\n#\nt\\\n$(q:;=|): override +=  \t\n", AddLine Bottom (NewRule [] Double (codes "a&b b")), Refused (BadArgument field.Targets)) ∷  -- random-645
    (codes "foo: x.o\n#c \\\n d\r\n\t \r\n", ChangePrereqs (Some 1) (codes "foo") (AddPrereq false (codes ".PHONY")), Becomes (codes "foo: x.o .PHONY\n#c \\\n d\r\n\t \r\n")) ∷  -- random-646
    (codes "%.c&:\\\n\\\nt: a&b\n# x ; y : z = 1\r\nCC:::= \t \r\n\t$(p #) : -x_9  += b $(p #) \nexport private define .RECIPEP>REFIX\r\net: u\r\n\tx\n", ChangeValue (One None) (codes "CC") (edits.Set (codes "$(p #) t")), Becomes (codes "%.c&:\\\n\\\nt: a&b\n# x ; y : z = 1\r\nCC:::= \t $(p #) t\r\n\t$(p #) : -x_9  += b $(p #) \nexport private define .RECIPEP>REFIX\r\net: u\r\n\tx\n")) ∷  -- random-647
    (codes "x.o y: \n>ifndef X # c\n.a \\\n\tb\n# c\n\n.RECIPEPREFIX =$x\n?#=#:\r\n \\\n\toverride:  #\n", AddRecipe None (codes "x.o") Last (codes "$("), Refused RecipePrefix) ∷  -- random-648
    (codes "\ta\\\\\nfoo: \n>define Q\r\noverride X\r\n \\\n\t$$ a:::(%.o ${c}\r\n$(a b)::: \\\nfoo foo\\\n\t\\\r\n\r\na: \n>a\\\n", RemoveLines (OfRecipe None (codes ".PHONY") (ByNumber 2)), Refused NoSuch) ∷  -- random-649
    (codes " export A = \ndefine \n \\\n\t-x_9 += \\\n \nifneq\n+ ) define\t$\\\\\n \\)\n", RemoveLines (OfRule None (codes "$(a b)")), Refused NoSuch) ∷  -- random-650
    []

answers_13 : map (λ row. outcome row.0 row.1) rows_13 ≡ map (λ row. row.2) rows_13
answers_13 = refl

abbrev rows_14 : List (List ℕ × Edit × Outcome)
rows_14 =
    (codes ".RECIPEPREFIX = t\nendif # c\r\n\tendef\\\\\n:::= ; t\r\nifeq (a,$(b\r\nfoo: \ntendif\naZ = 1\n\ty\r\r\n\t \n.RECIPEPREFIX:= >\n", AddRecipe None (codes "foo") Last [], Refused RecipePrefix) ∷  -- random-651
    (codes ".RECIPEPREFIX = -\n\t\\\no-$(a b)  != \0 #\\\\\r\n\t#c\r\n\\\n-include2\\\r\n:\t | ", RemoveLines (OfAssign None (codes ".RECIPEPREFIX")), Refused Reserved) ∷  -- random-652
    (codes "Ã©&: ${c} \tc \r\n${c} : :$(q:;=|)  ${g(} \t.PHONY\\\\\\\n|$(a b) #\\\\\\{\nX :::= $x $(m \\\n n) $\\\n  \r\na: .PHONY\n\tt: u\r\nX:=x  y %.o # c\n\ty\r", RemoveLines (OfRule None (codes "%.c")), Refused NoSuch) ∷  -- random-653
    ([], AddRecipe None (codes "%.o") Last (codes "define"), Refused NoSuch) ∷  -- random-654
    (codes ".$(\n>define Q", ChangeValue (One (Some 1)) (codes "a\\=") (edits.Append (codes "${c}")), Refused (BadArgument field.Name)) ∷  -- random-655
    (codes "aecho a # b\n$(p #) ::: \t$(f {) :x.o | \t \nprivate private \\\nifdef!= \\\n=\n\ta\\\nA:= = \n", ChangeValue (One None) (codes "ifdef") (edits.Append (codes "1")), Becomes (codes "aecho a # b\n$(p #) ::: \t$(f {) :x.o | \t \nprivate private \\\nifdef!= \\\n= 1\n\ta\\\nA:= = \n")) ∷  -- random-656
    (codes "\tendef\nexport define\\\n\\\n= \\\n  $(f {) | \n$(a b)::: $x \\\n \\\n ", AddRecipe (Some 2) (codes "$(f {)") Last (codes "\tb"), Refused NoSuch) ∷  -- random-657
    (codes "a: -include2\n>\\\n\nCC ::= \n$x &:  \n-include2 a&b &: CC  != \n$(f {): \ta&b\nt  :\\ \\\n.PHONY : x.o\n endef:=\\\\ \\ \n\\\n${c}:a#\\\\\\\n\n\tx\n$(f {): : .PHONY \n", ChangeValue (One None) (codes "endef") (edits.Append (codes "\\$x b")), Becomes (codes "a: -include2\n>\\\n\nCC ::= \n$x &:  \n-include2 a&b &: CC  != \n$(f {): \ta&b\nt  :\\ \\\n.PHONY : x.o\n endef:=\\\\ \\  \\$x b\n\\\n${c}:a#\\\\\\\n\n\tx\n$(f {): : .PHONY \n")) ∷  -- random-658
    (codes " ::.RECIPEPREFIX =t  #\nfoo: ${c} \tb\n\ty\r\n\\\n\t\nendif # c\n${g(} : \\\r\n $(s\\)  $(q:;=|) \\\n  | a \nc $(q:;=|): :  | ", RemoveLines (OfRule None (codes "foo")), Becomes (codes " ::.RECIPEPREFIX =t  #\n\\\n\t\nendif # c\n${g(} : \\\r\n $(s\\)  $(q:;=|) \\\n  | a \nc $(q:;=|): :  | ")) ∷  -- random-659
    (codes "$(a b):  \n\t}a\\\n", ChangePrereqs None (codes "$x") (RemovePrereq (codes "$(a b)")), Refused NoSuch) ∷  -- random-660
    (codes "-x_9 += \t # c\nexport override a\\=  :::=\t$(q:;=|) b  \r \n;#b\nfoo: \n>endef\n\naendef\n\tX ::= 1#\\\\\n%.o :: c  ${g(};.PHONY # \\\nendif\n\tendef\n", RemoveLines (OfRule (Some 0) (codes "%.o")), Refused NoSuch) ∷  -- random-661
    (codes ".RECIPEPREFIX+=a\n", ChangeValue (One None) (codes ".RECIPEPREFIX") (edits.Append (codes "$$")), Refused Reserved) ∷  -- random-662
    (codes "x.o y: ${c} $x\n%.c  $ #):  | \\\n \\\n foo foo # x ; y : z = 1\n$(q:;=|) : t a \\\r=;;=$(p #) # c\na: \n>a\\\r\n>b\n", ChangePrereqs (Some 4294967295) (codes "a") (RemovePrereq (codes "${c}")), Refused NoSuch) ∷  -- random-663
    (codes "a: \nea\\\r\n>b\r\r\n%.o:\r\n>a a\n\tb\nvpath %.c a\n", RemoveLines (OfAssign None (codes "a\\=")), Refused (BadArgument field.Name)) ∷  -- random-664
    (codes ".RECIPEPREFIX = $$\nifneq", AddLine (AfterVar None (codes ".RECIPEPREFIX")) (NewAssign (codes "override") Recursive (codes "x.o $#")), Refused Reserved) ∷  -- random-665
    (codes "x.o include:::$(s\\) \n%.o:  |foo\\\\\n; \r\nifdef A\na: $(f {) $x\n\telse\n>$(\r\ndefine D\n\t#c\nx.o y: $(a b)\n\n\tdefine Q", ChangePrereqs None (codes "a") (AddPrereq false (codes "$(a b)")), Becomes (codes "x.o include:::$(s\\) \n%.o:  |foo\\\\\n; \r\nifdef A\na: $(f {) $x $(a b)\n\telse\n>$(\r\ndefine D\n\t#c\nx.o y: $(a b)\n\n\tdefine Q")) ∷  -- random-666
    (codes "foo: -include2\n\t\\\n\nifeq (a,$(b\n>$(\r\n \\\n\r\n\\a|\n\\\r\nx.o y: $(f {)  a&b\naifdef Z\n\t#\\\\\\\n\n.else\r\na: \r\noverride define X =\r\n", SetRecipe (Some 0) (codes "y") (ByNumber 0) (codes "y # z"), Refused NoSuch) ∷  -- random-667
    (codes "\n\r!\\\n)\r>bendef|\ndefine#$ \\\n\n$(a b) : $(p #)  $(p #)\t\na&b &: a ${g(};\\\n\\\n\\\n\n ifeq (a,$(b\ndefine X =\n# \\", AddLine Bottom (NewAssign (codes "CC") Immediate (codes "t")), Refused OpenLine) ∷  -- random-668
    (codes ">b\\\r\n%.o:::-include2\tc|${c} $$ \n$x:  |\\\n\t\\\r\n${g(}", ChangePrereqs None (codes "$x") (AddPrereq false (codes "c")), Becomes (codes ">b\\\r\n%.o:::-include2\tc|${c} $$ \n$x: c  |\\\n\t\\\r\n${g(}")) ∷  -- random-669
    ([], AddLine (BeforeVar None (codes "endef")) (NewRule (codes "a&b") Double []), Refused NoSuch) ∷  -- random-670
    (codes "ifndef X # c", AddLine Bottom (NewRule (codes "foo") Double (codes "$; a&b")), Becomes (codes "ifndef X # c\nfoo:: $; a&b\n")) ∷  -- random-671
    (codes "#\\\\\\\n\n$(f {) : %.o \n\ta\\\r\n>b\r\n\t\\\n%.ca :  #\na: $(f {) ${g(}\n\\\n\t\n\t \n\\\n: endef ?=\\\n\\\n  \r\n$bX(\r=#\t\\\\\n$\nX?= \n", ChangePrereqs None (codes "$(f {)") (RemovePrereq (codes "%.o")), Becomes (codes "#\\\\\\\n\n$(f {) : \n\ta\\\r\n>b\r\n\t\\\n%.ca :  #\na: $(f {) ${g(}\n\\\n\t\n\t \n\\\n: endef ?=\\\n\\\n  \r\n$bX(\r=#\t\\\\\n$\nX?= \n")) ∷  -- random-672
    (codes "\t\n${c}::  ; x  y $(q:;=|) \n \\\n\tifdef \t+= \n\\\n$x\\\n\t\\\r\n%.o  &:| # \\\n>y\r\n", ChangePrereqs (Some 1) (codes "$x") (AddPrereq true (codes "$(a b)")), Becomes (codes "\t\n${c}::  ; x  y $(q:;=|) \n \\\n\tifdef \t+= \n\\\n$x\\\n\t\\\r\n%.o  &:| $(a b) # \\\n>y\r\n")) ∷  -- random-673
    (codes "Y != ; \r\n$(s\\) : : \\\n\t\r\nelse\na: -include2\n\tx\n\tt: u\r\n\t\\\n\r\nfoo: b\\\r\n${c}\n\tendef\r\n${c}\t-include2 &: $x\t|\\\\\n%.o \r\n", AddLine (AfterVar None (codes "-x_9")) (NewAssign (codes "ifdef") Append []), Refused NoSuch) ∷  -- random-674
    (codes "t :$(p #)\t|  $$ \\\n${g(} ;\\\n\\\nt \n\t#\nx.o : A ?=b\\\n\nb:  # \\\n>\\\n\nendef\nx.o y: \n\techo a # b\n# \r\n", AddRecipe None (codes "y") Last (codes ">"), Becomes (codes "t :$(p #)\t|  $$ \\\n${g(} ;\\\n\\\nt \n\t#\nx.o : A ?=b\\\n\nb:  # \\\n>\\\n\nendef\nx.o y: \n\techo a # b\n\t>\n# \r\n")) ∷  -- random-675
    (codes "$(p #)\t%.o :export Y  ::= $$ \\$x \t\r #\\\\\n.\n\tx\ndefine= \t\\$x\n.RECIPEPREFIX := \nx.o :$x  $(f {) .PHONY; \\#\0#c \\\n d\n Y::= \nifdef A", ChangeValue (One None) (codes "define") (edits.Set []), Becomes (codes "$(p #)\t%.o :export Y  ::= $$ \\$x \t\r #\\\\\n.\n\tx\ndefine= \t\n.RECIPEPREFIX := \nx.o :$x  $(f {) .PHONY; \\#\0#c \\\n d\n Y::= \nifdef A")) ∷  -- random-676
    (codes "?o: : a\\\n\\\nf # x ; y : z = 1\n$(a b) \t%.c ::  \\\n  ;= \r\n", AddRecipe None (codes "%.c") Last (codes "define"), Becomes (codes "?o: : a\\\n\\\nf # x ; y : z = 1\n$(a b) \t%.c ::  \\\n  ;= \r\n\tdefine\n")) ∷  -- random-677
    (codes "-include b c\r\n\0endef\n=X\r\n!$|>\r\n$$ :::a\tfoo | |d $x \\\n\r\n\\\n!\r\n:\0X$\r\n\r\ndefine E # c\r\n\\\n# c\r\noverride define D\r\nt1?= \tb\\${c}\r\n", ChangeValue (One (Some 2)) (codes ">q") (edits.Append (codes "t")), Refused (BadArgument field.Name)) ∷  -- random-678
    (codes "aecho a b\r\n${g(} : .PHONY \\\nb  $(s\\) #\\\\\\\n\r\nx.o y: ${g(}\n\\\n\t\n\tZ = 1\neZ = 1\r\nfo( a&! \tc\r\nundefine X\r\nA::=  \r\n.RECIPEPREF\\ =>\r\n", RemoveLines (OfRecipe None (codes "x.o") (ByNumber 1)), Becomes (codes "aecho a b\r\n${g(} : .PHONY \\\nb  $(s\\) #\\\\\\\n\r\nx.o y: ${g(}\n\\\n\t\neZ = 1\r\nfo( a&! \tc\r\nundefine X\r\nA::=  \r\n.RECIPEPREF\\ =>\r\n")) ∷  -- random-679
    (codes "\tZ = 1\n>$\t  a:${g(} foo \\\n%.o\n", ChangePrereqs (Some 1) (codes "%.o") (AddPrereq true (codes "${c}")), Refused NoSuch) ∷  -- random-680
    (codes "A != $\\\n\\\n\\\n2 3 \ndefine ::= $$ # \r\n\ta\\\\\nX$:= ; ${c} \n", ChangeValue (One None) (codes "define") (edits.Set (codes "$x")), Becomes (codes "A != $\\\n\\\n\\\n2 3 \ndefine ::= $x # \r\n\ta\\\\\nX$:= ; ${c} \n")) ∷  -- random-681
    (codes "#\\\\\nprivate \\\n \\\n X :::= \t$$a\\:b%.o  \r\n>X?;\r\n \n \\\n\r\n+\\\n?=!\t\r\nx.o y: \n \\\n\r\n%.o : \\\n%.c\n\tifdef Z\r\n", RenameTarget (codes "y") (codes "${c}"), Becomes (codes "#\\\\\nprivate \\\n \\\n X :::= \t$$a\\:b%.o  \r\n>X?;\r\n \n \\\n\r\n+\\\n?=!\t\r\nx.o ${c}: \n \\\n\r\n%.o : \\\n%.c\n\tifdef Z\r\n")) ∷  -- random-682
    (codes "\t#c \\\n d\na: ${c} \ta&b\n \\\n\naecho a # b\noverride &:$$:a&b $(f {) $(s\\) | $(a b)\\\n\t\\\r\n#\ndefine E # c\nX\t!=  \\\n \\\n \n", AddLine Bottom (NewAssign (codes "-x_9") Immediate []), Refused OpenDefine) ∷  -- random-683
    (codes "x.o:\\\r\n| \na&b: \nx.o y: \n> \n>y\r\noverride\tX$ :=\t.PHONY \n\n\t\\\nifdef A\n.RECIPEPREFIX +=\na:$(a b) :$(q:;=|); $(w \\\n #\n", ChangePrereqs None (codes "y") (RemovePrereq (codes ".PHONY")), Refused RecipePrefix) ∷  -- random-684
    (codes ": private ifdef\t?= x.o$\\\r\n $\\\n  \t\n\tZ = 1\n.PHONY &: $(q:;=|) \\\n  :a&b \nx.o ::: ${c}| $$\\\\\n", RemoveLines (OfAssign None (codes "-x_9")), Refused NoSuch) ∷  -- random-685
    (codes ">a\\\r\n>b\r\nfoo $(f {)&:-x_9 = = # c\r\n\\\n#\0\r\nifdef:= ${g(}\tb %.c \\\n \\\n \r\nendef\r\na: $(q:;=|)\n\tendef\n>a\\\r\n>b\r\n", RemoveLines (OfAssign None (codes "ifdef")), Becomes (codes ">a\\\r\n>b\r\nfoo $(f {)&:-x_9 = = # c\r\n\\\n#\0\r\nendef\r\na: $(q:;=|)\n\tendef\n>a\\\r\n>b\r\n")) ∷  -- random-686
    (codes "foo : \\\n .PHONY  $(a b) ;\\\n\\\n%}.c %;c ", ChangePrereqs None (codes "foo") (AddPrereq false (codes "a&b")), Becomes (codes "foo : \\\n .PHONY  $(a b) a&b ;\\\n\\\n%}.c %;c ")) ∷  -- random-687
    (codes "b $(p #) : :b\t| foo  ${c} ; \t# x ; y : z = 1\r\n>t: \\\n  t |x.o %.o\nfoo: a $(f {)\na\\\n\nt1 :::= # \r\n\tt: u\r\n \\\n\t${g(} ::: ${c}\t; \r\n # x ; y : z = 1\r\nprivate\tendef +=\t# c\nfoo: \n.#c\n\t \n>ifdef A\r\n", ChangePrereqs (Some 2) (codes "foo") (AddPrereq false (codes "%.c")), Becomes (codes "b $(p #) : :b\t| foo  ${c} ; \t# x ; y : z = 1\r\n>t: \\\n  t |x.o %.o\nfoo: a $(f {)\na\\\n\nt1 :::= # \r\n\tt: u\r\n \\\n\t${g(} ::: ${c}\t; \r\n # x ; y : z = 1\r\nprivate\tendef +=\t# c\nfoo: %.c \n.#c\n\t \n>ifdef A\r\n")) ∷  -- random-688
    (codes "t1\\\r\n?=${g(} \n\t${c} : \\\r\n $(p #) \t$x \\\n|\\\n\t$$ %.c\nelse ifdef Q\nt : \tt \\\n \\\n : %.c $(p #) \t$(s\\)", RemoveLines (OfRule (Some 2) (codes "t")), Refused NoSuch) ∷  -- random-689
    (codes ".RECIPEPREFIX:= .\r\nt &::  # c\r\nendef\nelse ifdef Q\nb ::\ta&b \r\nx.o y: \n\tendif\n \r\n$(a b)  x.o : -include2|.PHONY\\\n\ta&b \n\t\r\n", RemoveLines (OfRecipe None (codes "x.o") (ByNumber 4294967295)), Refused Absent) ∷  -- random-690
    (codes "\r", AddLine Bottom (NewAssign (codes "X") Shell (codes "%.o")), Refused OpenLine) ∷  -- random-691
    (codes ">c: $(p #)\tt  x.o\r\n\tendef\r\n|\rX\n!X#: \ndefine\r\n\t\r\n-x_9 ::= $(f {)\\ \\\n\r ${c}\r\n\tdefine Q\r\na&b &:\\\n\t$(f {)\\\r\n: $(a b) x.o\r\n>ifdef Z\r\n>ifneq\r\n", RemoveLines (OfRule None (codes ">c")), Becomes (codes "|\rX\n!X#: \ndefine\r\n\t\r\n-x_9 ::= $(f {)\\ \\\n\r ${c}\r\n\tdefine Q\r\na&b &:\\\n\t$(f {)\\\r\n: $(a b) x.o\r\n>ifdef Z\r\n>ifneq\r\n")) ∷  -- random-692
    (codes "a&b&:: a&b  ${c}  | \n\ty\r\n>q\\\n\t+=  #\0\n{ !\n?\n\\\\( X \n", ChangePrereqs None (codes "a&b") (AddPrereq true (codes "$$")), Becomes (codes "a&b&:: a&b  ${c}  | $$ \n\ty\r\n>q\\\n\t+=  #\0\n{ !\n?\n\\\\( X \n")) ∷  -- random-693
    (codes "b : \t.PHONY -include2\n>\\\n\n\t\nifneq\n", RemoveLines (OfRule None (codes "a&b")), Refused NoSuch) ∷  -- random-694
    (codes "$x $(p #) :b \t$(q:;=|) | .PHONY ${c}#c \\\n d\n-x_9\\\n\\\n+=$\\\n  $(w \\\n \\\n\n\t \nx.o y: $x\n>x\nendef # c\n\t#c\n>", AddRecipe (Some 0) (codes "y") Last [], Refused NoSuch) ∷  -- random-695
    (codes "export \t>q := a\\  \n $(f {) \t$$  &:  $$  ${g(} # \r\n\t\\\n%.o .PHONY : a  t\n.PHONY -include2\\\r\n::\t$(p #) %.o -include2 #\0\n\ta\\\n\t$(\n>Y ?= \r \\\r\n ", ChangeValue (One None) (codes "t1") (edits.Set []), Refused NoSuch) ∷  -- random-696
    (codes ".RECIPEPREFIX = a\r\nfoo: \n\ty", AddLine (BeforeVar None (codes ".RECIPEPREFIX")) (NewRule (codes "b") Single []), Refused Reserved) ∷  -- random-697
    (codes "a: $(s\\)\n \\\n\nendif\\\\", AddRecipe None (codes "a") Last (codes "$("), Becomes (codes "a: $(s\\)\n\t$(\n \\\n\nendif\\\\")) ∷  -- random-698
    (codes "\telse\r\n", SetRecipe (Some 4294967295) (codes "$(q:;=|)") (ByNumber 2) [], Refused NoSuch) ∷  -- random-699
    (codes ".RECIPEPREFIX = -\n c ::\tx.o :.PHONY c; \n.PHONY: \n>\\\n\n>%.c :: .PHONY : $(p #)\nCC ::= \\$x\t#\0\n>x\nendef # c\n", RemoveLines (OfRule None (codes ".PHONY")), Becomes (codes ".RECIPEPREFIX = -\n c ::\tx.o :.PHONY c; \n>\\\n\n>%.c :: .PHONY : $(p #)\nCC ::= \\$x\t#\0\n>x\nendef # c\n")) ∷  -- random-700
    []

answers_14 : map (λ row. outcome row.0 row.1) rows_14 ≡ map (λ row. row.2) rows_14
answers_14 = refl

abbrev rows_15 : List (List ℕ × Edit × Outcome)
rows_15 =
    (codes ".RECIPEPREFIX = c\r\n.RECIPEPREFIX=\t$( \\\n  \r\nendef+\r\n. \r\nendef#c\r\nfoo: t $(q:;=|)  x.o\\\n\\\n|  $(a b) t #\0\r\nendef # c\r\n==\0::}\\\n{;\r\n", ChangeValue (One (Some 1)) (codes ".RECIPEPREFIX") (edits.Append []), Refused (BadArgument field.Value)) ∷  -- random-701
    (codes "$$ :| -include2\ta ;   # c\nendef#c\nA:::= \n define D\ndefine \n \n$(X):=\\\r\n\\\n\t\n", RenameTarget (codes "$$") (codes ".PHONY"), Becomes (codes ".PHONY :| -include2\ta ;   # c\nendef#c\nA:::= \n define D\ndefine \n \n$(X):=\\\r\n\\\n\t\n")) ∷  -- random-702
    (codes "endif\r\nifdef\\\nB\r\n%.c&:%.c \t${g(} \\\n \\\n | \t${g(} #\\\\\\\n\r\n\ta \\\n\tb\r\nifdef :=\\\n\t1 \r\n# \\\r\noverride X\r\n \\\n\ta.b= 2 3 \r\n.RECIPEPREFIX?=X", ChangeValue (One (Some 4294967295)) (codes "a.b") (edits.Set (codes "\\$x c")), Refused RecipePrefix) ∷  -- random-703
    (codes "\ta \\\n\tb\na&b :\\\n\\\n # x ; y : z = 1\nt1 \\\n  =  \n : A :::=1 -include2\\# \\\n \\\n \na\\\n\r\n>q\\\n?=foo\\\n\t$  \t$(f {) \nt1 :::= \\#%.o \nendef\\\n", RemoveLines (OfRule None (codes "a&b")), Becomes (codes "\ta \\\n\tb\nt1 \\\n  =  \n : A :::=1 -include2\\# \\\n \\\n \na\\\n\r\n>q\\\n?=foo\\\n\t$  \t$(f {) \nt1 :::= \\#%.o \nendef\\\n")) ∷  -- random-704
    (codes "\\\nb)=\\\n\t\\\nb:\n #\nX$   ?= c $x $(f {) \nx.o y: a&b ${c}\n\techo a # b\r\na: $(s\\)  %.c\n\n>ifdef Z\nx.o y: $(f {) $(p #)\n\ta\\\\\nifeq (a,$(b\n\ta\\\r\n>b\r\n>ifdef != # x ; y : z = 1\n\ta\\\r\n>b", ChangeValue (One None) (codes "X$ ") (edits.Set (codes "$x")), Refused (BadArgument field.Name)) ∷  -- random-705
    (codes "{$\tb\\\n\\\r\n \\\n\r\n$x : $& : ${g(} \t$(a b) | \\\n \\\n x.o  x.o \r\n%.o : t %.c .PHONY \r\nt1 != \\\n   \r\n", ChangePrereqs (Some 1) (codes "%.o") (AddPrereq true (codes "a&b")), Becomes (codes "{$\tb\\\n\\\r\n \\\n\r\n$x : $& : ${g(} \t$(a b) | \\\n \\\n x.o  x.o \r\n%.o : t %.c .PHONY | a&b \r\nt1 != \\\n   \r\n")) ∷  -- random-706
    (codes "\r", AddLine Bottom (NewAssign (codes ">q") Simple (codes "a\\:b")), Refused (BadArgument field.Name)) ∷  -- random-707
    (codes "export private define \n$(a b)  c::: x.o $$ ", RemoveLines (OfAssign None (codes "Y!")), Refused (BadArgument field.Name)) ∷  -- random-708
    (codes "$(a b) $(s\\)\\\n\\\n&: A := %.o \\\\\t= \na: $(p #)  $x\n\\\n\t\n\tt: u\n$(p #):   \nx.o y: t \tx.o\n : .RECIPEPREFIX  ?= $ \t\ndefine ?=\0\\\r\n", RemoveLines (OfRule None (codes "x.o")), Refused (SharedRule 2)) ∷  -- random-709
    (codes "ifeq (a,$(b\r\n\ta\\\r\n>b\nifdef\\\nB\r\n\t\\\nA::= t  \r\n\r\n\nt1 != a\\  ${c}", RemoveLines (OfAssign None (codes "t1")), Becomes (codes "ifeq (a,$(b\r\n\ta\\\r\n>b\nifdef\\\nB\r\n\t\\\nA::= t  \r\n\r\n\n")) ∷  -- random-710
    (codes ">endif\n\noverride += %.c ${ux  y\n\t$(\n>a\\\nendef\\\n\na::ta \\\tb\nfoo: b\n\t\\\0\r\n.PHONY\n", RemoveLines (OfRecipe None (codes "foo") (ByNumber 1)), Becomes (codes ">endif\n\noverride += %.c ${ux  y\n\t$(\n>a\\\nendef\\\n\na::ta \\\tb\nfoo: b\n.PHONY\n")) ∷  -- random-711
    (codes "CC\\\r\n?=.PHONY ${c}$x \r\n\\\nifneq\n#:?\\endef\r\n\t\nx.o y: a&b\n\t#c\nelse\n\tendef\r\n ::override\t-x_9 =$(f {)\\\r\n%.c \nfoo: $(a b) \t$(q:;=|)\n", AddLine (AfterVar None (codes "CC")) (NewRule (codes "b") Single (codes "c")), Refused Leans) ∷  -- random-712
    (codes "${g(}  &:\n.RECIPEPREFIX =\\\n", ChangeValue (One None) (codes ".RECIPEPREFIX") (edits.Append []), Refused (BadArgument field.Value)) ∷  -- random-713
    (codes "t:foo\ta ; $\\\r\n $( \r\n\\\n.PHONY :c t foo\\\n| $\t a\r\na: ${c}  t\r\n$$ \t$(q:;=|)\t:\tY!\\\r\n+=\\\\\n$(f {) $\t2 3\r\na: \n>a\\\r\nx.o y: \n\tendef\n>a \\\n\tb\r\n", AddRecipe None (codes ">a") Last (codes "define"), Becomes (codes "t:foo\ta ; $\\\r\n $( \r\n\\\n.PHONY :c t foo\\\n| $\t a\r\na: ${c}  t\r\n$$ \t$(q:;=|)\t:\tY!\\\r\n+=\\\\\n$(f {) $\t2 3\r\na: \n>a\\\r\nx.o y: \n\tendef\n\tdefine\r\n>a \\\n\tb\r\n")) ∷  -- random-714
    (codes "t  &:$(q:;=|) :  \t\ndefine :::=\\\n\t2 3$(s\\) \t#\\\\\nfoo: ${g(} x.o\n\tendef\nx.o y: a&b\n\tZ = 1\n.PHONY :%.c\\\n\tc ${c}\\\n\t# \r\nendef\nfoo: \n\n\tendef\n", RemoveLines (OfRecipe None (codes "y") (ByNumber 1)), Becomes (codes "t  &:$(q:;=|) :  \t\ndefine :::=\\\n\t2 3$(s\\) \t#\\\\\nfoo: ${g(} x.o\n\tendef\nx.o y: a&b\n.PHONY :%.c\\\n\tc ${c}\\\n\t# \r\nendef\nfoo: \n\n\tendef\n")) ∷  -- random-715
    (codes "?\\\\\n\0b$>$) \r\n|\n$(s\\): :$(a b) : \t\\\n\t\\\r\n\n\ta\\\n$(p #) : %.c#\0\n\tendif\nt:$(a b) |\\\r\n\n\t ", ChangePrereqs None (codes "t") (AddPrereq true (codes "a&b")), Becomes (codes "?\\\\\n\0b$>$) \r\n|\n$(s\\): :$(a b) : \t\\\n\t\\\r\n\n\ta\\\n$(p #) : %.c#\0\n\tendif\nt:$(a b) | a&b\\\r\n\n\t ")) ∷  -- random-716
    ([], AddLine Bottom (NewAssign (codes "a.b") Append (codes "=")), Becomes (codes "a.b += =\n")) ∷  -- random-717
    (codes "${c}:\\\n\t # x ; y : z = 1\nt : -include2 %.c $(a b)|\\\n\tfoo t # \r\n\ta\\\ndefineb;\\=b\ndefine .RECIPEPREFIX\n\n\ta\\\\\nexport define\n", ChangePrereqs (Some 2) (codes "${c}") (RemovePrereq (codes "${c}")), Refused RecipePrefix) ∷  -- random-718
    (codes "\tZ = 1\r\n$(p #) :\\\r\n$(a b) a\\\r\n| \r\noverride define .RECIPEPREFX\r\n", ChangeValue (One None) (codes "Z") (edits.Set (codes "a&b")), Becomes (codes "\tZ = a&b\r\n$(p #) :\\\r\n$(a b) a\\\r\n| \r\noverride define .RECIPEPREFX\r\n")) ∷  -- random-719
    (codes "${c}: : $x \t$(s\\) \n$(q:;=|): : a : \\\n \\\n $(a b) \tc \n?xport t1:::=\\#\n t1::=:\\\\ x.o\noverride \\\n \\\n ?= | 1 \no-$(a b) := ${c} %.c\\\n\t\\\\ \noverride!=  ", ChangeValue (One None) (codes "override") (edits.Set (codes "$(a b) c")), Refused (Ambiguous 2)) ∷  -- random-720
    (codes ">a\\\\\n$(f {) \tb:a&b $(f {) \\\r\n b\t#\\\\\nendif", RemoveLines (OfRule (Some 4294967295) (codes "b")), Refused NoSuch) ∷  -- random-721
    ([], ChangeValue (One None) (codes "endef") (edits.Set (codes "${c}")), Refused NoSuch) ∷  -- random-722
    (codes ">$(a b) -include2 :::%.o :\t| \\\n$(q:;=|) \nY= | $(s\\)\t.PHONY \n>$(\n # c\nX:=  \n", ChangePrereqs (Some 2) (codes "a") (RemovePrereq (codes "a")), Refused NoSuch) ∷  -- random-723
    (codes "!\\", AddLine Bottom (NewAssign (codes "override") Conditional (codes "b")), Refused OpenLine) ∷  -- random-724
    (codes "\ta\\\\\naZ = 1\n #\\\\\\\n\nfoo: \n.a\\\\\n.PHONY  :$x #\\\\\\\n", RemoveLines (OfAssign None (codes "aZ")), Becomes (codes "\ta\\\\\n #\\\\\\\n\nfoo: \n.a\\\\\n.PHONY  :$x #\\\\\\\n")) ∷  -- random-725
    (codes ".RECIPEPREFIX::= e\r\n\\#x = \\$x \nexport .RECIPEPREFIX::= :\n>$(\r\n>q = $  \r\nA\\\n\t\\\r\n::= a&b# x ; : z = 1\n\t\r\n", AddLine (AfterVar (Some 2) (codes ".RECIPEPREFIX")) (NewRule (codes ".PHONY") Single []), Refused Reserved) ∷  -- random-726
    (codes ">echo a # b\n>-include2\tc&::.PHONY \t-include2 c ;a $(a b)\t= \n\t", AddRecipe None (codes ">-include2") Last (codes "\\\\"), Refused (BadArgument field.Line)) ∷  -- random-727
    (codes "x.o y: ${g(}\n\t\\\n\n\t\\\n\n>ifdef Z\r\nendif\r\n", AddRecipe (Some 1) (codes "y") Last (codes "t"), Becomes (codes "x.o y: ${g(}\n\t\\\n\n\t\\\n\n\tt\n>ifdef Z\r\nendif\r\n")) ∷  -- random-728
    (codes ".RECIPEPREFIX = x\r\n-include2 ::  | ${c}\t$(s\\)\n.PHONY:$(q:;=|) \r\n$x: -include2\t$|\ta\nendef\nprivate\n", RemoveLines (OfRule None (codes "-include2")), Becomes (codes ".RECIPEPREFIX = x\r\n.PHONY:$(q:;=|) \r\n$x: -include2\t$|\ta\nendef\nprivate\n")) ∷  -- random-729
    ([], SetRecipe None (codes "-include2") (ByNumber 4294967295) (codes "t"), Refused NoSuch) ∷  -- random-730
    (codes "override .RECIPEPREFIX := # c\r\n$(a b) \t: $(s\\) | \\\n$x $(p #) \t\r\n\t \r\na: a&b  $(a b)\n.echo a # b\r\nfoo: %.o\n # \\\r\n\t \r\n|  x.o : private t1 +=\t # x ; y : z = 1\r\na  $(s\\) : CC \t::= ; \\\n$(f {) \r\n", ChangeValue (One None) (codes ".RECIPEPREFIX") (edits.Append []), Refused (BadArgument field.Value)) ∷  -- random-731
    (codes "export private define F \\\n\r\nifdef A\r\n\t{\r\n \t\\\n{\r\n?\r\n${c} : $(q:;=|) ${ \r\n", RenameTarget (codes "foo") (codes "t"), Refused NoSuch) ∷  -- random-732
    (codes ".define Q\nndef\n${g(}:: $x \t$(a b) +include2 \n$$ \t$x :\\\n\tA = \\\nb $(s\\) \n\t \n$$\\\n\t\\\r\nb :: ; \n\r\n \\\n\tc&: \\\r\n a&b |c \r\n", ChangePrereqs None (codes "b") (AddPrereq false (codes "a")), Becomes (codes ".define Q\nndef\n${g(}:: $x \t$(a b) +include2 \n$$ \t$x :\\\n\tA = \\\nb $(s\\) \n\t \n$$\\\n\t\\\r\nb :: a ; \n\r\n \\\n\tc&: \\\r\n a&b |c \r\n")) ∷  -- random-733
    (codes "override\\\na.b \\\n=\\\n\\\n \r\nendef\\\n\\\n+=\t\0 \r\na.b != \t$(p #) #bx ; y : z = 1\r\ndefine ?=  $(s\\) \r\n#:\\\n\r\n\\\nX} d\tine\\\\\n\r\n)\r\n\t \r\n\tade", ChangeValue (One (Some 2)) (codes "a.b") (edits.Append (codes "foo $(s\\)")), Becomes (codes "override\\\na.b \\\n=\\\n\\\n \r\nendef\\\n\\\n+=\t\0 \r\na.b != \t$(p #) foo $(s\\) #bx ; y : z = 1\r\ndefine ?=  $(s\\) \r\n#:\\\n\r\n\\\nX} d\tine\\\\\n\r\n)\r\n\t \r\n\tade")) ∷  -- random-734
    (codes "a:\tx.o \tc # x ; y : z = 1\r\n>\t$(\r\naendef\r\n", RemoveLines (OfRecipe None (codes "a") (ByNumber 0)), Refused Absent) ∷  -- random-735
    (codes "\n| : t \tt \t$(a b) \n\\\n\nexport t1+=$(p #)\\\n", RemoveLines (OfAssign None (codes "t1")), Becomes (codes "\n| : t \tt \t$(a b) \n\\\n\n")) ∷  -- random-736
    (codes "a: x.o\n\\\n#\n\\\n# x ; y : z = 1\r\nX\\\n\t\\\r\n?= $(p #) \r\n:CC\\\n\t\\\r\n:= x.o \r\n>$(\r\n\ta \\\n\tb\r\n", ChangeValue (One None) (codes "t1") (edits.Set (codes "2 3")), Refused NoSuch) ∷  -- random-737
    (codes "ty\r\n >q \\\n \\\n :=\\\n\t\\\r\na\\:b#\\\\\\\n\nc  a &: %.o: $$  t \nt &:\t%.o ${c}#\\\\\nendef:= \\\n  $(s\\): \\\n$(\\\n\t\na: \nelsendef\ndefine != \\\n\\ \n)", AddRecipe (Some 2) (codes "t") Last (codes " a"), Refused NoSuch) ∷  -- random-738
    (codes "x.o y: \ntt: u\r\nt &: $(p #) :$x \r\nfoo: %.c\n\t#c\n>x\r\na&b &: $$ $(a b) |$(s\\) b#\\\\\\\n", ChangePrereqs None (codes "foo") (RemovePrereq (codes "%.c")), Becomes (codes "x.o y: \ntt: u\r\nt &: $(p #) :$x \r\nfoo:\n\t#c\n>x\r\na&b &: $$ $(a b) |$(s\\) b#\\\\\\\n")) ∷  -- random-739
    (codes ".RECI?PEPREFIX = Y\nx.o y: $(p #)\n>t: u\na\\\n\n: endef\\\n+=  \ndefine ?= $(s\\) \t\nifdef\\\r\n= : \n = $\\;\r\n $$$(f {)\n>q \\\n:::= \\\r\n %.o \n\ta\\", RemoveLines (OfAssign None (codes ">q")), Refused (BadArgument field.Name)) ∷  -- random-740
    (codes ".RECIPEPREFIX = X\r\n$(q:;=|) &:ifdef \\\n \\\n ?=\\\n\\\n${c} $$ \r\nx.o y: x.o\nadefine Q\r\nA:= $# x.o\\\r\n$$\r\nprivate \tprivate o-$(a b)+= \nifdef\\\nB\r\n", RemoveLines (OfRule None (codes "x.o")), Refused (SharedRule 2)) ∷  -- random-741
    (codes ".RECIPEPREFIX = :", ChangeValue (One None) (codes ".RECIPEPREFIX") (edits.Append (codes "\\#")), Refused Reserved) ∷  -- random-742
    (codes "edefine Q\noverride\\\n\tA := foo >\nA=\\\\ $#\\\\\\ \n\tZ = 1\n  : override != \\\n  ; a\\  # x ; y : z = 1\n$x:::$(p #) $(p #) \n", AddLine (AfterVar (Some 2) (codes "A")) (NewAssign (codes "ifdef") Simple []), Becomes (codes "edefine Q\noverride\\\n\tA := foo >\nA=\\\\ $#\\\\\\ \nifdef :=\n\tZ = 1\n  : override != \\\n  ; a\\  # x ; y : z = 1\n$x:::$(p #) $(p #) \n")) ∷  -- random-743
    (codes "override .RECIPEPREFIX ::=\\\n>>\r\nfoo: \n>define Q\n\ta \\\n\tb\r\n%.c c: \\\n   \t#\n\tendef\r\n>A := b ${g(} \r\n.endef\r\n$(q:;=|) ::\t%.c\\\n\\\nfoo#\0\r\n >q ?= \r\n\\\n", ChangeValue (One None) (codes "o-$(a b)") (edits.Set (codes "%.o")), Refused (BadArgument field.Name)) ∷  -- random-744
    (codes "\t \r\n# \r\nexport\r\n \\\n\tprivate CC::= \t#\r\n%.c&::b $(a b) \r\n\tt1::=\t$(p #)-include2%.o \n :\\\n\tY ::= $(a b)\\ \n\ta $(a b) : $x: t\r\n", RemoveLines (OfAssign None (codes "CC")), Becomes (codes "\t \r\n# \r\nexport\r\n%.c&::b $(a b) \r\n\tt1::=\t$(p #)-include2%.o \n :\\\n\tY ::= $(a b)\\ \n\ta $(a b) : $x: t\r\n")) ∷  -- random-745
    (codes ". ECIPEPREFIX = d\n", AddLine (BeforeVar None (codes "X")) (NewAssign (codes "endef") PosixSimple (codes "b")), Refused NoSuch) ∷  -- random-746
    (codes "%.c $(f {) :  ; \noverride define X =\nt1 \\\n \\\n = \t\r\n", ChangePrereqs None (codes "%.c") (AddPrereq false (codes "c")), Becomes (codes "%.c $(f {) : c  ; \noverride define X =\nt1 \\\n \\\n = \t\r\n")) ∷  -- random-747
    (codes "$$ \\\n$(a b): t x.o;b\\\n  a  $  #\\\\\\\n\n> \n.RECIPEPREFIX:= :\r\n", RemoveLines (OfAssign (Some 0) (codes ".RECIPEPREFIX")), Refused Reserved) ∷  -- random-748
    (codes " \n\t\\\n\n\tdefine Q\n\\#x:= -include2${g(} # \\\n=endef;endef?}\n}?\\\n\\\n!\nendef$\r\n", SetRecipe (Some 1) (codes "${g(}") (ByNumber 0) (codes ">"), Refused NoSuch) ∷  -- random-749
    (codes "a: ${c}\n\t \nendef = \\\n \\\n #\0\nifdef !=  \n>\n\t\\\nc  &: $(s\\) $(f {) $(q:;=|) #\n\\\n#c \\\n d\n${c} : override A:::= $\\\n\\\n\na \\\r\n x.o:::\t$(a b) \\\r\n \nA:::=\\\n\ta\\:b \n\\\n# x ; y : z = 1\n", ChangePrereqs None (codes "a") (AddPrereq true (codes "$(f {)")), Becomes (codes "a: ${c} | $(f {)\n\t \nendef = \\\n \\\n #\0\nifdef !=  \n>\n\t\\\nc  &: $(s\\) $(f {) $(q:;=|) #\n\\\n#c \\\n d\n${c} : override A:::= $\\\n\\\n\na \\\r\n x.o:::\t$(a b) \\\r\n \nA:::=\\\n\ta\\:b \n\\\n# x ; y : z = 1\n")) ∷  -- random-750
    []

answers_15 : map (λ row. outcome row.0 row.1) rows_15 ≡ map (λ row. row.2) rows_15
answers_15 = refl

abbrev rows_16 : List (List ℕ × Edit × Outcome)
rows_16 =
    (codes "#\0\r\n\\\ndefine \r\noverride = ;\r\nta\\\r\n>b\r\noverride =%.o -include2\\\r\n1 \r\n$x &: \t$(f {)\\\n\t; t\\\n$(a b) \\\n  $(q:;=|)\r\nA :::= \\\n    #\0\r\n$(s\\): $(s\\) #\r\n", RemoveLines (OfRule (Some 4294967295) (codes "%.c")), Refused NoSuch) ∷  -- random-751
    (codes "-include2 foo &::   ;a\\ \n$&: :$x# x ; y : z = 1\n-x_9 +=\\\n \\\n \\\n \nexport define\n \\\n\tendef\\\n\n\tx\n$x\t: : t\\\r\n:$(f {) \t|\\\n\t$(p #) -include2\\\r\n#\n\tdefine Q\n\t\nendef :::= \\\n  \t\n", RemoveLines (OfRule None (codes "foo")), Refused (SharedRule 2)) ∷  -- random-752
    (codes ".RECIP?REFIX = Y\r\nendef\r\n\tZ = 1\n:\n\\\n\n\t#c\rc ::$(p #) :.PHONY \\\n#", ChangeValue (One None) (codes ".RECIP?REFIX") (edits.Set (codes "\\#")), Refused (BadArgument field.Name)) ∷  -- random-753
    (codes "ifndef X # c\nCC!=\t \nc: .PHONY $(q:;=|) \\\n \\\n | b \n\tdefine Q\n \n", RemoveLines (OfAssign None (codes "CC")), Becomes (codes "ifndef X # c\nc: .PHONY $(q:;=|) \\\n \\\n | b \n\tdefine Q\n \n")) ∷  -- random-754
    (codes "endef # c\na&b:x.o \t$$ $(u \\\n| $x %.c \\\n \\\n #c \\\n d\n\t$(\noverride \\#x:= $#\\\r\na\ntt: u\na.b\\\n:= \n>a\\\\\n\ta \\\n\tb\nx.o y: \n.a \\\n\tb\n", ChangePrereqs (Some 4294967295) (codes "tt") (RemovePrereq (codes "u")), Refused NoSuch) ∷  -- random-755
    (codes "\t$(\n", AddLine Bottom (NewRule (codes "$(f {) %.o") Double (codes "${g(}")), Becomes (codes "\t$(\n$(f {) %.o:: ${g(}\n")) ∷  -- random-756
    (codes "\t \nCC  ::= = # x ; y : z = 1\n", RemoveLines (OfAssign None (codes "CC")), Becomes (codes "\t \n")) ∷  -- random-757
    (codes ">define Q\nelse ifdef Q\n\\\n$\\#\\\nX\\\\\n(=\t(\n$(s\\) b&::%.o\tt  $(s\\) \nelse ifdef Q\nX \\\n \\\n :=$(w \\\n2 3 \n", SetRecipe None (codes "$(s\\)") (ByNumber 4294967295) (codes " a"), Refused Absent) ∷  -- random-758
    (codes "foo: \r\nc :\\\n\t$(s\\) \t$(f {) $(a b)\nunexport Y\r\n-x_9 +=b $(p #) ${c} # \r\r\na: \n\tt: u\n>a  \\\n\tb\n \\\n\r\nifeq (a,$(b", AddLine (BeforeRule (Some 1) (codes "foo")) (NewAssign (codes "a.b") Immediate []), Becomes (codes "a.b :::=\r\nfoo: \r\nc :\\\n\t$(s\\) \t$(f {) $(a b)\nunexport Y\r\n-x_9 +=b $(p #) ${c} # \r\r\na: \n\tt: u\n>a  \\\n\tb\n \\\n\r\nifeq (a,$(b")) ∷  -- random-759
    (codes "define F \\\n\r\n &:  CC= -include2 \\\r\n ", AddLine Bottom (NewAssign (codes "define") Conditional (codes "${g(} \\#")), Refused OpenDefine) ∷  -- random-760
    (codes ".RECIPEPREFIX = t\nexport CC!= $# -include2# \\\n", RemoveLines (OfAssign (Some 4294967295) (codes ".RECIPEPREFIX")), Refused Reserved) ∷  -- random-761
    (codes "override\t::= \n?\ra\n", ChangeValue (One (Some 4294967295)) (codes "override") (edits.Set (codes "a\\:b ;")), Refused NoSuch) ∷  -- random-762
    (codes "t: \\\n \\\n $(q:;=|) %.c \r\nx.o y: .PHONY\n\ty\r\n\tendef\r\n$(p #): $$\t${c} \r\n", RenameTarget (codes "t") (codes "$(p #)"), Refused Taken) ∷  -- random-763
    (codes " \\\n\tendef\\\n=  t\t%.c \r\n", ChangeValue (One None) (codes "endef") (edits.Set (codes "\\#")), Becomes (codes " \\\n\tendef\\\n=  \\# \r\n")) ∷  -- random-764
    (codes "\t\\\n-include2&: \\\n  a \r\ndefine := $(f {)\\\n\\\n#\\\\\\\n\n\\\n\t\n\t \r\n>foo : $$ \t$& \n\\\n# c\n", AddLine Bottom (NewRule (codes "$$") Double (codes "$(s\\) $(a b)")), Becomes (codes "\t\\\n-include2&: \\\n  a \r\ndefine := $(f {)\\\n\\\n#\\\\\\\n\n\\\n\t\n\t \r\n>foo : $$ \t$& \n\\\n# c\n$$:: $(s\\) $(a b)\n")) ∷  -- random-765
    (codes "a \n t1 != \\# \\\n\n${g(} .PHONY  :  \nta\\\r\n>b\nt\nx.o : a $(p #) \\\n\n$(a b)\\\n&: \\\nA::= \nexport\toverride X:= a\\ $$\n\tendif", ChangePrereqs (Some 1) (codes "x.o") (RemovePrereq (codes "a")), Becomes (codes "a \n t1 != \\# \\\n\n${g(} .PHONY  :  \nta\\\r\n>b\nt\nx.o : $(p #) \\\n\n$(a b)\\\n&: \\\nA::= \nexport\toverride X:= a\\ $$\n\tendif")) ∷  -- random-766
    (codes "\t", RemoveLines (OfAssign None (codes "t1")), Refused NoSuch) ∷  -- random-767
    (codes "%.o\t$(a b) &:\\\n\tx.o \\\n \\\n .PHONY\nfoo: \n# x ; y : z = 1\n${c}: %.c ${g(}\nendif # c\n\\\noverride\\\n\\\nt1:= ${c}-include2 a\n>q \\\n!=$$\t\n t1\\\n= -include2 x.o \n\tZ = 1\n", SetRecipe None (codes "foo") (ByNumber 2) (codes " a"), Refused Absent) ∷  -- random-768
    (codes "X !=\t$#\\\r\n\\$\\\r\n \t\n%.c  :${c} %.c a \t\n.PHONY: $(f {)\\\r\n; $(s\\) #\\\\\n>Z = 1\n${c}&:X\\\n?=  \nX$ != $(q:;=|) # c\n${g(}::t\n$$: : %.o\t-include2 $(p #) #\n", RemoveLines (OfAssign None (codes "X$ ")), Refused (BadArgument field.Name)) ∷  -- random-769
    (codes "\\\na : t1::=\\\n\t\\\r\n$# \r\n>q := $  \\\n \\\n $$ \r\noverride define F \\\n\r\n>x\r\nelse ifdef Q\r\nendif # c\r\nexport \t-x_9:::= \\$x  \\ %.c\r\n$(s\\)\t$(p #):   # x ; y : z = 1\r\n", ChangeValue (One (Some 1)) (codes ">q") (edits.Set (codes "$(a b)")), Refused (BadArgument field.Name)) ∷  -- random-770
    (codes "ifeq (a,$(b\\", AddLine Bottom (NewRule (codes "foo") Single (codes "%.o")), Refused OpenLine) ∷  -- random-771
    (codes "$$ : >q != 1 \0 $\\\n \nx.o y: $(a b)\n=\t\\\n):\t\\\n\\$\\\\\n#++\\\nY \t+=$x\n\t\n", ChangePrereqs None (codes "y") (AddPrereq false (codes "$(q:;=|)")), Becomes (codes "$$ : >q != 1 \0 $\\\n \nx.o y: $(a b) $(q:;=|)\n=\t\\\n):\t\\\n\\$\\\\\n#++\\\nY \t+=$x\n\t\n")) ∷  -- random-772
    (codes "ifneq\\\\\n\r\nx.o: $$\\\t\\\n\\\n;  \n", AddRecipe None (codes "a&b") Last (codes "$("), Refused NoSuch) ∷  -- random-773
    (codes "Y!=\\\n\t #\0\n", AddLine Bottom (NewRule (codes ".PHONY ${c}") Double (codes "a&b")), Becomes (codes "Y!=\\\n\t #\0\n.PHONY ${c}:: a&b\n")) ∷  -- random-774
    (codes ">Z = 1\r\nfoo: \n>endef\nifndef X # c\n\tdefine Q\r\n-include2&:-x_9!=\t$\\\r\n $x\r\nx.o y: b a\nendif\n # \\\n\t\r\nifdef\\\nB\r\n#) ?\r\nexport private define .RECIPEPREFIX\r\nendef # c\r\n\ta\\\r\n", AddRecipe (Some 2) (codes "y") Last (codes " a"), Refused RecipePrefix) ∷  -- random-775
    (codes " & ===\t\\\n\nendif\n\t$(\n.\nprivate\tCC :::=; # x ; y : z = 1\n${g(}&:: $(f {)\n", ChangePrereqs (Some 1) (codes "${g(}") (AddPrereq true (codes "${c}")), Becomes (codes " & ===\t\\\n\nendif\n\t$(\n.\nprivate\tCC :::=; # x ; y : z = 1\n${g(}&:: $(f {) | ${c}\n")) ∷  -- random-776
    (codes ".RECIPEPREFIX = >\n\\:=\t\\\n\ndefine:::=\\\r\n\0 $(q:;=|) \r\nfoo: \n\t# \r\r\n\t\\\n \\: \r\nX ?=\\\n \r\nprivate\toverride  -x_9?= \\\n\r\n", ChangePrereqs (Some 1) (codes "foo") (AddPrereq false (codes "-include2")), Becomes (codes ".RECIPEPREFIX = >\n\\:=\t\\\n\ndefine:::=\\\r\n\0 $(q:;=|) \r\nfoo: -include2 \n\t# \r\r\n\t\\\n \\: \r\nX ?=\\\n \r\nprivate\toverride  -x_9?= \\\n\r\n")) ∷  -- random-777
    (codes ".RECIPEPREFIX = -\nb&:: \\\n  $$\\\n\t\\\r\na&b\t.PHONY \nexrt .RECIPEPREFIX = t\nendef#c\nfoo: \n>a\\\n#b\0\n", ChangePrereqs (Some 0) (codes "b") (AddPrereq false (codes "$(q:;=|)")), Refused NoSuch) ∷  -- random-778
    (codes ".R\tIPEPREFIX = >\r\n", AddLine Bottom (NewAssign (codes "A") Shell (codes "%.c")), Becomes (codes ".R\tIPEPREFIX = >\r\nA != %.c\r\n")) ∷  -- random-779
    (codes "\\\nt&:: .PHONY x.o | \n\t\\\n$(p #): \\\n  $(q:;=|)| x.o #c \\\n d\n\tZ = 1\n${g(}:>q = \t;# x ; y : z = 1", RemoveLines (OfRule (Some 1) (codes "t")), Becomes (codes "${g(}:>q = \t;# x ; y : z = 1")) ∷  -- random-780
    (codes "override::  \\\n \\\n | a&b foo; \\\n \\\n : \0\nifdef\\\nB\nfoo %.c &: ${c}\\\n\t\nprivate\t>q =$ \\ \r\n", ChangePrereqs None (codes "foo") (AddPrereq false (codes "$(f {)")), Becomes (codes "override::  \\\n \\\n | a&b foo; \\\n \\\n : \0\nifdef\\\nB\nfoo %.c &: ${c} $(f {)\\\n\t\nprivate\t>q =$ \\ \r\n")) ∷  -- random-781
    (codes ".Z = 1\r\nx.o y: \r\nx.o y: $(f {)\n\t#c\r\nx.o y: %.c \t$(p #)\n\n\\\n\t\n\ta \\\n\tb\r\n\telse\r\n", ChangeValue (One None) (codes ".Z") (edits.Append (codes ".PHONY")), Becomes (codes ".Z = 1 .PHONY\r\nx.o y: \r\nx.o y: $(f {)\n\t#c\r\nx.o y: %.c \t$(p #)\n\n\\\n\t\n\ta \\\n\tb\r\n\telse\r\n")) ∷  -- random-782
    (codes "${c} : ; $(a b) ${c} foo# \\\nA=  \\\n#\n\tendif\nendef != \\\n   \n$(s\\) &::$(q:;=|) :%.c c  | \t${c}\nifndef X # c\n", ChangePrereqs None (codes "${c}") (AddPrereq true (codes "$x")), Becomes (codes "${c} : | $x ; $(a b) ${c} foo# \\\nA=  \\\n#\n\tendif\nendef != \\\n   \n$(s\\) &::$(q:;=|) :%.c c  | \t${c}\nifndef X # c\n")) ∷  -- random-783
    (codes ".R+CIPEPREFIX = .\n\t|else\nfoo: c\t$(a b)\n\telse\n \\\n\na \ta :::%.o\\\n|$(q:;=|)\n>$(f {): \ntifdef Z\r\n", ChangePrereqs (Some 4294967295) (codes ">$(f {)") (AddPrereq true (codes "$x")), Refused NoSuch) ∷  -- random-784
    (codes "$(p #):  \\\r\n \n\ta \\\n\tb\n\t#\0\nendef :::=\\\n\\\n${c} ${c} ${g(} \n\r\n?\n.PHONY::: $(a b)\\\n$&\tfoo # c\n$(f {) : $(p #) $(f {)  b", AddLine (AfterVar None (codes "endef")) (NewAssign (codes "t1") Immediate (codes "=")), Becomes (codes "$(p #):  \\\r\n \n\ta \\\n\tb\n\t#\0\nendef :::=\\\n\\\n${c} ${c} ${g(} \nt1 :::= =\r\n\r\n?\n.PHONY::: $(a b)\\\n$&\tfoo # c\n$(f {) : $(p #) $(f {)  b")) ∷  -- random-785
    (codes "-include2 : x.o \t#\0\n\r:\\\\\\\n\n", AddLine Bottom (NewRule (codes "$(q:;=|) else") Double (codes "${g(} a")), Refused Reserved) ∷  -- random-786
    (codes "$(s\\) :  |$(p #) #c \\\n d\n$x:: \\\n  a&b  $$| ${g(} ${g(} \n-include2: \\\r\n \t# \\\noverride define F \\\n\n%.c: :|$(p #)\t%.o\n\tZ = 1\nt#c", AddRecipe None (codes "-include2") Last (codes ">"), Becomes (codes "$(s\\) :  |$(p #) #c \\\n d\n$x:: \\\n  a&b  $$| ${g(} ${g(} \n-include2: \\\r\n \t# \\\noverride define F \\\n\n\t>\n%.c: :|$(p #)\t%.o\n\tZ = 1\nt#c")) ∷  -- random-787
    (codes ">t: u\r\nt:: a.b:=\\# a\\:b\r\n>%.c :  \n>; :::= \\\n\n. \n>$ifdef A\n", SetRecipe (Some 2) (codes ">%.c") (ByNumber 2) (codes "x"), Refused NoSuch) ∷  -- random-788
    (codes "\r\na\\\r) \r\n\\\n\t\n \\\n\r\n>a \\\n\tb\nt x.o :>q ::= \\-include2\nÃ©&: -x_9\\\n\t\\\r\n+= x  y\t#\\\\", RenameTarget (codes "t") (codes "${c}"), Becomes (codes "\r\na\\\r) \r\n\\\n\t\n \\\n\r\n>a \\\n\tb\n${c} x.o :>q ::= \\-include2\nÃ©&: -x_9\\\n\t\\\r\n+= x  y\t#\\\\")) ∷  -- random-789
    (codes "-include2::: a: t  $x | %.c \\\r\n # \r\n", AddLine Bottom (NewRule (codes "${g(}") Single (codes "$(f {)")), Becomes (codes "-include2::: a: t  $x | %.c \\\r\n # \r\n${g(}: $(f {)\r\n")) ∷  -- random-790
    (codes ".RECIPEPREFIX = b\n", ChangeValue (One None) (codes ">q") (edits.Set (codes "$#")), Refused (BadArgument field.Name)) ∷  -- random-791
    (codes "foo: $(p #)\n \\\n\tÃ©:b: $(s\\) \noverride .RECIPEPREFIX = e\na.b := $(f {)# c\n", ChangeValue (One (Some 0)) (codes "a.b") (edits.Set (codes "= a\\:b")), Refused RecipePrefix) ∷  -- random-792
    (codes "a.b:=$ \\\n\t${g(}${u \t# c\r\n", AddLine (BeforeVar None (codes "CC")) (NewRule (codes "$$") Single (codes "$(q:;=|) $(a b)")), Refused NoSuch) ∷  -- random-793
    (codes "\ta\\\r\n$(p #) \\\n  a&b : : ${g(} : \\\n \\\n b -include2  $x\r\nelse\r\ndefine X =\r\n\\ \\\n:\\\n\t\\\r\noverride \\\n  ?= x  y \r\n #\\\\\r\noverride += \\\n  $#\\\\ ${u\r\n>echo a # b\r\n$(q:;=|):\t \\\r\n | \\\n \\\n %.o \r\n", ChangePrereqs None (codes "%.o") (RemovePrereq (codes "c")), Refused NoSuch) ∷  -- random-794
    (codes "ifdef = \r\nc  $(f {) :: A := \\# \r\nexport .RECIPEPREFIX =\\\n>\r\n>a\\\r\n # x ; y : z = 1\r\nendef # c\r\nx.o y: a&b a\n\telse\r\nt1 +=  \r\n", RemoveLines (OfAssign None (codes "define")), Refused RecipePrefix) ∷  -- random-795
    (codes "a&b :$(p #) \r\n\t#c \\\n d\r\n>#c\r\n\t\\\nfoo : \t| \tc\\\r\n$(q:;=|) ; $\\\n  $(p #) \\\\\n# c\r\n$(s\\) ::\\\n\\\n$(p #)  a&b\r\nload x\r\n$(q:;=|) :$(s\\) c  \r\na: foo .PHONY\nendef \\\r\n != \\\r\n ${c} x.o \r\n", AddRecipe None (codes "$(q:;=|)") Last (codes "y # z"), Becomes (codes "a&b :$(p #) \r\n\t#c \\\n d\r\n>#c\r\n\t\\\nfoo : \t| \tc\\\r\n$(q:;=|) ; $\\\n  $(p #) \\\\\n# c\r\n$(s\\) ::\\\n\\\n$(p #)  a&b\r\nload x\r\n$(q:;=|) :$(s\\) c  \r\n\ty # z\r\na: foo .PHONY\nendef \\\r\n != \\\r\n ${c} x.o \r\n")) ∷  -- random-796
    (codes " #\nx.o y: t\n\t \n\ty\r\n.\\\n\r\n private  .RECIPEPREFIX\t::= %.o\t${c} \\\n  $( \nat: u\r\n#c \\\n d", RemoveLines (OfAssign None (codes "override")), Refused RecipePrefix) ∷  -- random-797
    (codes "t\\\n\t$(f {)::$(f {) \t$(q:;=|)\\\r\n.PHONY \\\n  |\\\n\\\nb\r\na: \n\telse\r\nc: :\tt c $(q:;=|) #c \\\n d\noverride Y :::= \r\n", RemoveLines (OfRule (Some 4294967295) (codes "t")), Refused NoSuch) ∷  -- random-798
    (codes "ende:#c\noverride CC =\\\\  \nX$  ::=$\\\nx  y # c\noverride ?= \tx.o # \r\neendef\na\n", ChangePrereqs None (codes "ende") (RemovePrereq (codes "$(f {)")), Refused Absent) ∷  -- random-799
    (codes "CC = a\\:b \tt \\\n  #\0\n>#c\n%.c : \tt1 =  \n!\nc:%.c \\\n  define \\\r\n \n", ChangePrereqs None (codes "c") (AddPrereq true (codes "$$")), Becomes (codes "CC = a\\:b \tt \\\n  #\0\n>#c\n%.c : \tt1 =  \n!\nc:%.c \\\n  define | $$ \\\r\n \n")) ∷  -- random-800
    []

answers_16 : map (λ row. outcome row.0 row.1) rows_16 ≡ map (λ row. row.2) rows_16
answers_16 = refl

abbrev rows_17 : List (List ℕ × Edit × Outcome)
rows_17 =
    (codes " \t:::=\t\\\\ \\\r\n # \r\r\ndefine := $\\\r\ndefine $(p #) \\\n  \\\\\r\n%.o:::c \tc# x ; y : z = 1", ChangeValue (One None) (codes "define") (edits.Append (codes "t b")), Becomes (codes " \t:::=\t\\\\ \\\r\n # \r\r\ndefine := $\\\r\ndefine $(p #) \\\n  \\\\ t b\r\n%.o:::c \tc# x ; y : z = 1")) ∷  -- random-801
    (codes ">echo a # b\r\n>b : :  ", AddLine Bottom (NewAssign (codes "a.b") PosixSimple (codes "$# a\\:b")), Becomes (codes ">echo a # b\r\n>b : :  \r\na.b ::= $# a\\:b\r\n")) ∷  -- random-802
    (codes ".RECIPEPREFIX = %\r\n", ChangeValue (One (Some 2)) (codes ".RECIPEPREFIX") (edits.Set []), Refused Reserved) ∷  -- random-803
    (codes " define D\n$(a b)&:: a:b\\\n\t\\\r\n:%.c $(s\\) ${c} \\\n", ChangeValue (One (Some 0)) (codes "A") (edits.Append (codes "$(s\\)")), Refused NoSuch) ∷  -- random-804
    (codes " #\\\\\\\n\nfoo: \n\t \nfoo: $(f {)  x.o\n>\nt1?=  \n \nelse ifdef Q\n\\\n#\\\\\nY ?=2 3  $$ ", RemoveLines (OfRecipe (Some 1) (codes "foo") (ByNumber 1)), Becomes (codes " #\\\\\\\n\nfoo: \nfoo: $(f {)  x.o\n>\nt1?=  \n \nelse ifdef Q\n\\\n#\\\\\nY ?=2 3  $$ ")) ∷  -- random-805
    (codes ".RECIPEPREFIX = :\ntt: u\nexport -x_9 \\\n:::= \\\r\n c \nload x\n$(q:;=|) &:\\\r\nb c $(f {) \\\n \\\n \n", ChangePrereqs None (codes "$(q:;=|)") (RemovePrereq (codes "$(f {)")), Becomes (codes ".RECIPEPREFIX = :\ntt: u\nexport -x_9 \\\n:::= \\\r\n c \nload x\n$(q:;=|) &:\\\r\nb c \\\n \\\n \n")) ∷  -- random-806
    (codes "$(s\\) :a.b\t?=%.c#\\\\\r\n", AddLine Bottom (NewAssign (codes ">q") Simple (codes "|")), Refused (BadArgument field.Name)) ∷  -- random-807
    (codes "endef:(\n+a\\\na\r\nX!>\r\n$(q:;=|)::$(s\\):  \n\tdefine Q\r\nifndef X # c\n $(f {) : ${g(}| a \\\r\n \r\n\t \r\n\r\n.RECIPEPREFIX := $(q:;=|)\\\n\t\\\r\n", RemoveLines (OfRule None (codes "endef")), Refused Reserved) ∷  -- random-808
    (codes "foo: \n\\\n# \\\n\t$(\n\r\n\t\\\n\r\n &:\\\r\nY!!=$(f {)a \\\n  1\r\nload x\r\n # \\\r\nendif", AddLine (BeforeRule None (codes "foo")) (NewAssign (codes "CC") Simple (codes "$$")), Becomes (codes "CC := $$\nfoo: \n\\\n# \\\n\t$(\n\r\n\t\\\n\r\n &:\\\r\nY!!=$(f {)a \\\n  1\r\nload x\r\n # \\\r\nendif")) ∷  -- random-809
    (codes "x.o y: \n>a\\\n$$ : x.o $(p #) \t$(p #) ;-include2 1\\\n\t\\\r\n\nx.o y: \n\tendif\nY\\\n\\\n+=\\\n\t\\\r\nx.o\na\tfoo&: export \t-x_9 ::=\\\n\t\\$x \na&b ${g(} :::x.o: \\\n   \\\n \\\n # \r\noverride&:\\\n\\\n.PHONY \nexport private define \n", AddLine Bottom (NewRule (codes "foo") Double (codes "c a&b")), Refused OpenDefine) ∷  -- random-810
    (codes "$(s\\)  b\\\n\\\n: a#\\\\\noverride\\\nY?= $\n b) \\$x\n# x ; y : z = 1\nprivate override +=  \n\\\nY ?= $(a b) \nb : :  #\\\\\n${g(}  a&::foo $(p #) t \\\r\n ", ChangeValue (One (Some 2)) (codes "Y") (edits.Set []), Becomes (codes "$(s\\)  b\\\n\\\n: a#\\\\\noverride\\\nY?= $\n b) \\$x\n# x ; y : z = 1\nprivate override +=  \n\\\nY ?= \nb : :  #\\\\\n${g(}  a&::foo $(p #) t \\\r\n ")) ∷  -- random-811
    (codes "\t\n\t \n\r\n|+\\\r\n\n \\\n  :: export >q:= $\\\n \\\\\\2 3 \na: foo\n\t \n c : t| ${c}\t${c}\n ifdef += ${c}t # x ; y : z = 1\n\\\n&: \ta.b\\\r\n+=a&b \\#1 #\n \n", RemoveLines (OfAssign None (codes "ifdef")), Becomes (codes "\t\n\t \n\r\n|+\\\r\n\n \\\n  :: export >q:= $\\\n \\\\\\2 3 \na: foo\n\t \n c : t| ${c}\t${c}\n\\\n&: \ta.b\\\r\n+=a&b \\#1 #\n \n")) ∷  -- random-812
    (codes "\t \nexport \tY!=\\\n\t\r\nifeq (a,$(b\r\nfoo: $(s\\)\n\telse\n\\\n%.o: \\\na&b ${g(}\\\n\\\n${c}", AddRecipe (Some 2) (codes "foo") Last (codes " a"), Refused NoSuch) ∷  -- random-813
    (codes ".RECIPEPREFIX = x", AddLine (BeforeVar None (codes ".RECIPEPREFIX")) (NewRule (codes "${c}") Double []), Refused Reserved) ∷  -- random-814
    (codes "$(a b): $(a b) # \r\nfoo: \n\nendif # c\n-include2 ::c %.c | %.o %.o \\\n\nax\nA = %.c #\\\\\\\n", AddLine (AfterVar None (codes "A")) (NewAssign (codes ">q") PosixSimple (codes "= $(p #)")), Refused (BadArgument field.Name)) ∷  -- random-815
    (codes "$\r\n\\\n:&&\t\\\n(\n.bPHONY : .PHONY:\t$$  %. a&b #\0", AddLine Bottom (NewAssign (codes "t1") Conditional (codes "a\\:b")), Becomes (codes "$\r\n\\\n:&&\t\\\n(\n.bPHONY : .PHONY:\t$$  %. a&b #\0\r\nt1 ?= a\\:b\r\n")) ∷  -- random-816
    (codes "|: : c\tfoo \\\n\n\t \n\t$(s\\):\\\n\t\\\r\n #\\\\\\\n\nendif # c\nendef+= ${c} \\\n  $( $(f {) \n # \\\n#\\", ChangeValue (One None) (codes "endef") (edits.Set (codes "-include2 |")), Becomes (codes "|: : c\tfoo \\\n\n\t \n\t$(s\\):\\\n\t\\\r\n #\\\\\\\n\nendif # c\nendef+= -include2 |\n # \\\n#\\")) ∷  -- random-817
    (codes "t1 += a \\\\ \\# \n-inc)lude2 $(f {) : : a\\\n%.o t #\0\n|: :$(q:;=|) # \r\nCC := \t$(a b) $(p #) \nx.o\tc: \\\n\t\n$(\\ ) &: $x .PHONY\\\n# \\\n", ChangeValue (One None) (codes "CC") (edits.Append (codes "a")), Becomes (codes "t1 += a \\\\ \\# \n-inc)lude2 $(f {) : : a\\\n%.o t #\0\n|: :$(q:;=|) # \r\nCC := \t$(a b) $(p #) a \nx.o\tc: \\\n\t\n$(\\ ) &: $x .PHONY\\\n# \\\n")) ∷  -- random-818
    (codes "ifeq (a,$(b\r\n\tt u\r\nexport  >q !=\\\\\\# c\r\n> \r\n\t \r\nfoo: foo\n #\\\\\\\n\n>$(\r\nx.o  &: $(p #)\\\n: $(f \t\\\n) $$ |\t\r\na\\\n\r\n", ChangePrereqs (Some 0) (codes "foo") (AddPrereq false (codes "a")), Refused NoSuch) ∷  -- random-819
    (codes "$$::: \n\tZ = 1\nifeq (a,$(b\na&b:Y = ${g(}\\\\\\ # \r\na: \n\tifdef Z\n\ta\\\\\na: x.o\n\nY += \\\n$x \r\n$(a b) \t: override \tdefine \t+=-include2 : \t#\0\r\n>endif", ChangeValue (One (Some 4294967295)) (codes "Y") (edits.Set (codes "\\$x")), Refused NoSuch) ∷  -- random-820
    (codes "\tifdef Z\nCC ?=\\\r\n \n\t\\\n$(a b) -include2:t %.c  $(s\\) \t# \\\r\n\t\\\nifdef \t?= b\\\n\t\\\r\n\r\n$(f {) &::\\\n\t\\\r\nx.o | \t%.o \r\nay\r\r\n", RemoveLines (OfRule (Some 1) (codes "$(f {)")), Becomes (codes "\tifdef Z\nCC ?=\\\r\n \n\t\\\n$(a b) -include2:t %.c  $(s\\) \t# \\\r\n\t\\\nifdef \t?= b\\\n\t\\\r\n\r\nay\r\r\n")) ∷  -- random-821
    (codes ".RECIPEPREFIX= X\r\nY += \\  :${g(} \nfoo::: %.c t\t-include$2| %.o#c \\\n d\r\nendif\n.RECIPEPREFIX =>\r\nx.o y: %.o\t$(p #)\n\t \n#\0\n-include2 :$(a b) ; $x x  y\n>\\\n\n\tendef\n\tt: u\r\n.RECIPEPREFIX +=>\n", RenameTarget (codes "%.o") (codes "t"), Refused RecipePrefix) ∷  -- random-822
    (codes "a: -include2\n>else\n : a.b ?=%.c \n>x\na : b : a&b ${g(} foo\\\n\\\n", RemoveLines (OfRecipe None (codes "a") (ByNumber 4294967295)), Refused Absent) ∷  -- random-823
    (codes "\\# : | \\\r\n $(q:;=|) \\\n \\\n $$ \nt1 =%.o \nx.o y: a foo\naifdef Z\n\tifdef Z\naendif\n>a \\\n\tb\nc: |\\\r\n#c \\\n d\\\\", RemoveLines (OfAssign (Some 4294967295) (codes "t1")), Refused NoSuch) ∷  -- random-824
    (codes ".RECIPEPREFIX = c\r\n \r\ne$(\r\na\\=\\\n\\\n::= t $( # \r\r\n\t#\\\\\r\n", AddLine (BeforeVar None (codes ".RECIPEPREFIX")) (NewAssign (codes "Y") Shell (codes "a\\:b")), Refused Reserved) ∷  -- random-825
    ([], SetRecipe None (codes "-include2") (ByNumber 0) (codes " a"), Refused NoSuch) ∷  -- random-826
    (codes ".RECIPEPREFIX = t\n override X\r\nprivate \tt1=  #\n\\\nendef\r\nendef x\r\n :: define ::=  \t# c\na: foo\tb\n\tZ = 1\n\to-$(a b):::= ", AddLine Bottom (NewRule (codes "t") Single []), Refused RecipePrefix) ∷  -- random-827
    (codes "ifndef X # c\nx.o  foo :t $(s\\) |foo\t\n$(s\\) .PHONY : c|\ta \n-include2: \t$$  : %.o \\\r\n $$ \n\\\n# \\\n$(f {)::a&b  | $(p #) #c \\\n d\n", SetRecipe None (codes "-include2") (ByNumber 1) (codes "t"), Refused Absent) ∷  -- random-828
    (codes "\\\n\t\r\n>q ?=%.ca\\:b $(p #) \t\r\n%.o: $$  :  | x.o \r\n-x_9?= \0.PHONY\\\n$\\\r\n #c \\\n d\r\n>define?= =\t\r\n\ta\\\r\n$$:: \r\n ::\\\n\\\nifdef =c  ", ChangeValue (One (Some 4294967295)) (codes ">define") (edits.Set []), Refused (BadArgument field.Name)) ∷  -- random-829
    (codes "-include2\\\n.PHONY&:\\\r\n$x $(q:;=|)\\\n\t\\\r\n# x ; y : z = \n #\na: \n>a\\\nifdef A\n> \nelse ifdef Q?ifdef =$(p #)#\\\\\\\n\nx.o!y: $x\n\t$(\n$(s\\)&:  \\\n; \t$\\\n \n\n-include2>: .PHONY \n", ChangePrereqs None (codes "-include2") (AddPrereq false (codes "a")), Becomes (codes "-include2\\\n.PHONY&:\\\r\n$x $(q:;=|) a\\\n\t\\\r\n# x ; y : z = \n #\na: \n>a\\\nifdef A\n> \nelse ifdef Q?ifdef =$(p #)#\\\\\\\n\nx.o!y: $x\n\t$(\n$(s\\)&:  \\\n; \t$\\\n \n\n-include2>: .PHONY \n")) ∷  -- random-830
    (codes "A\\\n\t\\\r\n::= = \tt ${c} \n\n;?\\\n\r\n\t:\n{\0$$\r\n):>=\n\\\n", ChangeValue (One None) (codes "-x_9") (edits.Append (codes "$$")), Refused NoSuch) ∷  -- random-831
    (codes "foo: $(p #)\n\\\n\t\r\nx.o y: foo\n>else\n>q= %.o 1\nx.o y: $(p #)\n\techo a # b\n", AddRecipe (Some 1) (codes "x.o") Last (codes "$("), Becomes (codes "foo: $(p #)\n\\\n\t\r\nx.o y: foo\n\t$(\n>else\n>q= %.o 1\nx.o y: $(p #)\n\techo a # b\n")) ∷  -- random-832
    (codes "foo : define :::= x  y\\\n\\\n$(q:;=|)foo \r\n$(q:;=|)\t: b \\\n  $(a b) \tt # x ; y : z = 1\n\tendif\n\r\nifeq (a,$(b\r\nX$ \\\n\t?= $  \\ \r\n$\r\n|?|;\r\nendef +=  \r\n", AddRecipe (Some 2) (codes "$|") Last (codes "e f \\ g"), Refused NoSuch) ∷  -- random-833
    (codes "eecho a # b\r\nfoo :$(f {) : $(s\\) override b ; \\\n  $(w \\\n $x\naifdef Z\r\nt :::%.o .PHONY ${c} \r\nCC ::= \\\\\n", ChangePrereqs None (codes "foo") (RemovePrereq (codes "$(s\\)")), Becomes (codes "eecho a # b\r\nfoo :$(f {) : override b ; \\\n  $(w \\\n $x\naifdef Z\r\nt :::%.o .PHONY ${c} \r\nCC ::= \\\\\n")) ∷  -- random-834
    (codes "endef += %.o | # \\\n\t#\\\\\n", ChangeValue (One None) (codes "endef") (edits.Append (codes "$(f {)")), Becomes (codes "endef += %.o | $(f {) # \\\n\t#\\\\\n")) ∷  -- random-835
    (codes "\techo a # b\n\ta \\\n\tb\n>endif\naecho a # b\n\t# \\\n", AddLine Bottom (NewAssign (codes "A") Simple (codes "x.o b")), Refused OpenLine) ∷  -- random-836
    (codes "foo: %.c\t$$ | \ta\\\n\n$(p #) ::: c ${g(}\\\n\\\nb \nendef +=  \t\n\no-$(a b) != x.o$#\noverride :::=$#\\\n$# t\\\n\n :override\tCC := %.o\\\n\t# \\\n$\t \t$(a b) : A :=$(p #) 2 3 \\\n \\\n x.o #\\\\\n", AddLine (AfterVar (Some 1) (codes "t1")) (NewRule (codes "%.o ${c}") Single []), Refused NoSuch) ∷  -- random-837
    (codes ".RECIPEPREFIX = X\r\n${g(} $(p #):\\\r\n>q:= \\\n\\\n\r\nb:::%.o  ${g(}\\\n\t\\\r\n; $ \r\ninclude\\\n\\\n: : \\\r\n $$ \ndefine::=\\\n\t\\\r\n${g(}\\\r\n\n\\\n#\0\n.PHONY: x.o \tx.o t\\\\\\\n# c\n #\0\n+>\t(\noverride define \r\n", ChangeValue (One (Some 2)) (codes "define") (edits.Set []), Refused NoSuch) ∷  -- random-838
    (codes ".RECIPEPREFIX = .\n:\n\t$(", AddLine (BeforeVar None (codes ".RECIPEPREFIX")) (NewRule (codes "${c}") Single []), Refused Reserved) ∷  -- random-839
    (codes "export private define E # c\n$(s\\) : :\t.PHONY ${c} ${g(} \t\\\nendif # c\n}\n", AddRecipe None (codes "$(a b)") Last (codes "\tb"), Refused NoSuch) ∷  -- random-840
    (codes "e$#f:|  \n%.c :\tt: $| \\\n \\\n a&b |\tt %.o \nA ?=${u $(s\\)\\# # c\nendef\\\n\n", ChangeValue (One None) (codes "A") (edits.Set (codes "a&b ;")), Becomes (codes "e$#f:|  \n%.c :\tt: $| \\\n \\\n a&b |\tt %.o \nA ?=a&b ;\nendef\\\n\n")) ∷  -- random-841
    (codes "$(q:;=|)::: x.o  foo | $(a b) \n.RECIPEPRIX+=# c\ndef\r\nine\r\n ?=$(f {) \n", ChangeValue (One None) (codes ".RECIPEPRIX") (edits.Append (codes ":")), Becomes (codes "$(q:;=|)::: x.o  foo | $(a b) \n.RECIPEPRIX+=:# c\ndef\r\nine\r\n ?=$(f {) \n")) ∷  -- random-842
    (codes ".RECIPEPREFIX = d\n$\n.RECIPEPREFIX = Ã\nc :::$(f {)  $$ \\\r\n ${c} \n-x_9+= \\\n$( $# 1\\\n#\\\\\n", AddLine (BeforeVar None (codes "-x_9")) (NewAssign (codes "A") PosixSimple (codes "$$")), Refused RecipePrefix) ∷  -- random-843
    (codes "ifneq\nelse\n\tx\na&b\tfoo\t:  X$  :::=  \nifeq (a,$(b\n$$: foo \ta&b", AddRecipe None (codes "$$") Last (codes "define"), Becomes (codes "ifneq\nelse\n\tx\na&b\tfoo\t:  X$  :::=  \nifeq (a,$(b\n$$: foo \ta&b\n\tdefine\n")) ∷  -- random-844
    (codes "foo: $(p #) a\n>t: u\neecho a # b\nex\nendif # c\n\t\n endef:= \\\\ \n", AddLine (BeforeRule None (codes "$(f {)")) (NewAssign (codes "a.b") Immediate (codes "; b")), Refused NoSuch) ∷  -- random-845
    (codes "$(a b): $(s\\): $$   $(q:;=|)| b \\\n$$#\\\\\\\n\nendif # c\n\t\n\ta\\\r\n>\nendef # c\nfoo: \n\ta \\\n\tb\n\t \nx.o :a&b\t$$ \\\r\n t|$(p #) \t${g(}\\\n\t\\\r\n\n\\\n# \\\n d", RenameTarget (codes "foo") (codes "-include2"), Becomes (codes "$(a b): $(s\\): $$   $(q:;=|)| b \\\n$$#\\\\\\\n\nendif # c\n\t\n\ta\\\r\n>\nendef # c\n-include2: \n\ta \\\n\tb\n\t \nx.o :a&b\t$$ \\\r\n t|$(p #) \t${g(}\\\n\t\\\r\n\n\\\n# \\\n d")) ∷  -- random-846
    (codes "a \t:\r \tt: \r\n\\\n\t\r\nf|: x.o \t${g(}\n\n\n\t$(\r\n a&b ::\\\n\t$(q:=|) \r\n\t \r\nendef :=+ \\\n \\\n \r\n", SetRecipe None (codes "a&b") (ByNumber 1) (codes "define"), Becomes (codes "a \t:\r \tt: \r\n\\\n\t\r\nf|: x.o \t${g(}\n\n\n\t$(\r\n a&b ::\\\n\t$(q:=|) \r\n\tdefine\r\nendef :=+ \\\n \\\n \r\n")) ∷  -- random-847
    (codes ".RECIPEPREFIX = b\n$(p #) $(a b):: \n.define Q\n$(s\\):  ;   \nex\n-x_9 ::=  \t\n\ta \\\n\tb\n>${g(} a&b  :: $(s\\) %.o  %.o | $(q:;=|) #\\\\\\\n\n>define Q\n\tendef\n", AddRecipe None (codes "$(a b)") Last (codes "t"), Becomes (codes ".RECIPEPREFIX = b\n$(p #) $(a b):: \nbt\n.define Q\n$(s\\):  ;   \nex\n-x_9 ::=  \t\n\ta \\\n\tb\n>${g(} a&b  :: $(s\\) %.o  %.o | $(q:;=|) #\\\\\\\n\n>define Q\n\tendef\n")) ∷  -- random-848
    (codes "$(s\\)  ${g(} :$$ \t$$\\\n\r\nc:: a\r\na: \nifdef A\n#c \\\n d\r\n\ty\r", AddLine Bottom (NewAssign (codes "a.b") Recursive []), Refused OpenLine) ∷  -- random-849
    (codes ".PHONY : | $(s\\) $(q:;=|) ;  \r\n$(s\\) : a x.o \r\n\\\nb&::  \t| \r\nprivate\tCC :::=  \r\n\\\nendef # c\r\n$(s\\):: $$ #\r\nx.o y: %.o\n# \r\r\n-x_9\\\n\t!=2 3 \r\n", ChangePrereqs None (codes "y") (RemovePrereq (codes "t")), Refused Absent) ∷  -- random-850
    []

answers_17 : map (λ row. outcome row.0 row.1) rows_17 ≡ map (λ row. row.2) rows_17
answers_17 = refl

abbrev rows_18 : List (List ℕ × Edit × Outcome)
rows_18 =
    (codes "endif # c\nCC = c # c\nfoo: a&b\n\ta\\\n", ChangeValue (One (Some 0)) (codes "CC") (edits.Append []), Refused (BadArgument field.Value)) ∷  -- random-851
    (codes "\\\na ::vrie #\n \\\n X::= = $# #\\\\\r\n", RemoveLines (OfRule None (codes "a")), Becomes (codes " \\\n X::= = $# #\\\\\r\n")) ∷  -- random-852
    (codes "endef # c\r\n\t\\\na.b\\\n\t?= a\\  c# x ; y : z = 1\r\n\\\n\n\\\n!a\\\r\n$(f {) \\\n: : \\\n\\\n\r\n>endif\r\n\telse\r\n\t$(\r\n ${v b :: override += a #\\\\", RemoveLines (OfRule None (codes "-include2")), Refused NoSuch) ∷  -- random-853
    (codes ".RECIPEPREFIX = d\n$(f {)\t%.c :$(s\\) \\\n  : -include2 x.o # \\\n", RemoveLines (OfAssign None (codes "CC")), Refused NoSuch) ∷  -- random-854
    (codes ">else\nA \\\n \\\n !=\\\r\n$\\\n   #c \\\n d\nY :::=x  y  \r\n.RECIPEPREFIX:=\\\n.\nendef # c", ChangeValue (One (Some 4294967295)) (codes "Y") (edits.Append (codes "\\#")), Refused NoSuch) ∷  -- random-855
    (codes "t1 :::=\\\n\\\nx  y\\\r\n", ChangeValue (One None) (codes "t1") (edits.Set []), Becomes (codes "t1 :::=\\\n\\\n\r\n")) ∷  -- random-856
    (codes "# c\nx.o y: \n>t: u\n\tifdef Z\n\t\\\n\n$$&: \t \\\n \\\n \r\n", AddLine (BeforeRule None (codes "y")) (NewRule (codes "a&b") Double (codes "$(p #) c")), Becomes (codes "# c\na&b:: $(p #) c\nx.o y: \n>t: u\n\tifdef Z\n\t\\\n\n$$&: \t \\\n \\\n \r\n")) ∷  -- random-857
    (codes "$(s\\) \tfoo:a  a \t$(a b) | $$ \\\n \\\n a \nprivate \\\n \\\n >q:::=\\\n\\\n$(w \\\n\\\n| \nprivate\\\r\nX \t::= %.o # \r\na:   \n\t ", ChangePrereqs (Some 1) (codes "foo") (AddPrereq true (codes "b")), Becomes (codes "$(s\\) \tfoo:a  a \t$(a b) | $$ \\\n \\\n a b \nprivate \\\n \\\n >q:::=\\\n\\\n$(w \\\n\\\n| \nprivate\\\r\nX \t::= %.o # \r\na:   \n\t ")) ∷  -- random-858
    (codes "\r\ni\r\nfeq (a,$(b\r\nc&: private \\#x=  c \r\n \\\n\r\n-x_9 :::=.PHONY \r\n", AddRecipe None (codes "a") Last (codes "e f \\ g"), Refused NoSuch) ∷  -- random-859
    (codes ".RECIPEPREFIX = .\n%.c: \n\t\n$$: .PHONY \\\n \\\n # c\n.RECIPEPREFIX::=:\n \\\n\t\\#x =a&b : ${g(} \\", RemoveLines (OfRule None (codes "$$")), Becomes (codes ".RECIPEPREFIX = .\n%.c: \n\t\n \\\n\t\\#x =a&b : ${g(} \\")) ∷  -- random-860
    (codes "\\#x  != \r\n \\\n\tdefine :::=   \r\noverride \tprivate A :::= | \n &: + ?= \r\na: $(a b)\ne$(\r\nt: x.o $(q:;=|) \\\n# x ; y : z = 1\r\n\t \n\t#c\n", RemoveLines (OfAssign None (codes "ifdef")), Refused NoSuch) ∷  -- random-861
    (codes "a: a\n\\\n# \\\r\nifdef A\r\nCC := \na.b=\tb$(a b):#\n", RenameTarget (codes "a") (codes "%.o"), Becomes (codes "%.o: %.o\n\\\n# \\\r\nifdef A\r\nCC := \na.b=\tb$(a b):#\n")) ∷  -- random-862
    (codes "\r\nx.o y: \na#c\nt\\\n\r\nendef+= # \\\r\n\tendif\r\n", AddLine (BeforeVar (Some 2) (codes ".RECIPEPREFIX")) (NewAssign (codes "ifdef") Append (codes "c ${c}")), Refused Reserved) ∷  -- random-863
    ([], RemoveLines (OfRule (Some 0) (codes "-include2")), Refused NoSuch) ∷  -- random-864
    (codes ">q \\\r\n := \n\tendif\n", AddLine (AfterVar (Some 1) (codes ">q")) (NewRule [] Double []), Refused (BadArgument field.Place)) ∷  -- random-865
    (codes "\tZ = 1\r\n# \r\r\n\t\\\nX !=%.c$(s\\) $(\t\r\n$x: \ta&b t # \r\r\n-x_9\\\n\t:::=\r\n foo &: $(f {) : $(s\\)  ", ChangeValue (One (Some 1)) (codes "-x_9") (edits.Set (codes "\\#")), Becomes (codes "\tZ = 1\r\n# \r\r\n\t\\\nX !=%.c$(s\\) $(\t\r\n$x: \ta&b t # \r\r\n-x_9\\\n\t:::=\\#\r\n foo &: $(f {) : $(s\\)  ")) ∷  -- random-866
    (codes "t1\\\n= b\tbx.o\\\n\t#\0\n #endef\0$&:\n\\\n#c \\\n d\n$(f {) ::: \\\n  \nA= \\\r\n 1\\\r\n\\ \\\\ \n%.c :  $(f {)  t  $x | .PHONY \t%.c \na: $x $(a b)\nt\\\n\n\tx\n-include2 x.o :$(s\\) $(a b)| t \\\n  \nendif\n# c\\\\", ChangeValue (One None) (codes "A") (edits.Append (codes "-include2")), Becomes (codes "t1\\\n= b\tbx.o\\\n\t#\0\n #endef\0$&:\n\\\n#c \\\n d\n$(f {) ::: \\\n  \nA= \\\r\n 1\\\r\n\\ \\\\ -include2 \n%.c :  $(f {)  t  $x | .PHONY \t%.c \na: $x $(a b)\nt\\\n\n\tx\n-include2 x.o :$(s\\) $(a b)| t \\\n  \nendif\n# c\\\\")) ∷  -- random-867
    (codes ".else\nprivate\\\n\t\\\r\na.b  :=  \t#\0\nx.o y: ${g(}\t$(f {)\n\t \nendif\n \n){\n =!\\\n=\\\n \n>a \\\n\tb\n $x: :\\\n \\\r\n \n", RenameTarget (codes "y") (codes "$(q:;=|)"), Becomes (codes ".else\nprivate\\\n\t\\\r\na.b  :=  \t#\0\nx.o $(q:;=|): ${g(}\t$(f {)\n\t \nendif\n \n){\n =!\\\n=\\\n \n>a \\\n\tb\n $x: :\\\n \\\r\n \n")) ∷  -- random-868
    (codes "override define F \\\n\ne$(\noverride \tprivate \ta\\= ?=  $(p #)|\nA= x.o", AddLine Bottom (NewAssign (codes "X") Recursive (codes "$(f {)")), Refused OpenDefine) ∷  -- random-869
    (codes ".RECIPEPREFIX = e\nx.o y: \nifndef X # c\n\t\\\n=:\t|\\\no-$(a b) ?= \\\n\n>y\r\nt\\\n\n# \\\n", AddRecipe None (codes "x.o") Last (codes "t"), Becomes (codes ".RECIPEPREFIX = e\nx.o y: \net\nifndef X # c\n\t\\\n=:\t|\\\no-$(a b) ?= \\\n\n>y\r\nt\\\n\n# \\\n")) ∷  -- random-870
    (codes " \\\n\n.t: u\nendef\r\na: t\n\telse\n$$  foo\\\n: ${g(} \\\n  -include2 \r\na.b \\\n \\\n :::=$x \\\n \\\n \r\nexport export  a.b += \r\n>ifdef Z", ChangePrereqs None (codes "foo") (RemovePrereq (codes "${g(}")), Becomes (codes " \\\n\n.t: u\nendef\r\na: t\n\telse\n$$  foo\\\n: \\\n  -include2 \r\na.b \\\n \\\n :::=$x \\\n \\\n \r\nexport export  a.b += \r\n>ifdef Z")) ∷  -- random-871
    (codes "override .RECIPEPREFIX+=\\\na\nfoo: \n.x\nexport private define E # c\nCC ?=\\\n\\\na\\  \\\r\n ${u \nx.o y: $(p #)  %.c\n>endef\n\t \n", AddLine (AfterVar None (codes ".RECIPEPREFIX")) (NewAssign (codes "Y") Simple (codes "%.o")), Refused Reserved) ∷  -- random-872
    (codes " ifndef X # c\r\n", AddLine Bottom (NewRule (codes "define") Double (codes "$(s\\)")), Refused Reserved) ∷  -- random-873
    (codes "define F \\\n\r\nexport >q :=  \n# x ; y : z = 1", ChangeValue (One None) (codes "ifdef") (edits.Set (codes "%.c")), Refused NoSuch) ∷  -- random-874
    (codes "\tendef\r\n", AddLine (BeforeRule (Some 4294967295) (codes "$$")) (NewAssign (codes "X") Append []), Refused NoSuch) ∷  -- random-875
    (codes "o-$(a b)\\\n\\\n:=\\\n\t%.c $(q:;=|)\\\n\t${g(}\n$ifeq (a,$(b\nfoo:  \\\n\n", RemoveLines (OfRecipe (Some 0) (codes "-include2") (ByNumber 4294967295)), Refused NoSuch) ∷  -- random-876
    (codes "ifdef != t # \r\n\t#\\\\\\\n\n-x_9=\\\n\tc \r\n\tdefine Q\r\na: t \\\n  $(p #)\n\t#c\r\nca&b : CC?=;  \r\n", ChangeValue (One None) (codes "-x_9") (edits.Set (codes "1 c")), Becomes (codes "ifdef != t # \r\n\t#\\\\\\\n\n-x_9=\\\n\t1 c \r\n\tdefine Q\r\na: t \\\n  $(p #)\n\t#c\r\nca&b : CC?=;  \r\n")) ∷  -- random-877
    (codes ".RECIPEPREFIX  d\nY :::=\\\n\t$\\\r\n $$ \\\n  b\t\n!\r\n\nfoo: b\n>  \nb :::  | \t$(s\\)#\0\n+?|:\r\n\n", AddLine (BeforeVar (Some 0) (codes "Y")) (NewRule (codes "$(q:;=|)") Single (codes "foo")), Refused NoSuch) ∷  -- random-878
    (codes "\t$(\noverride!= \r \\\n:\\\n )\n\tt: u\n\t#c \\\n d\\\n", AddLine Bottom (NewAssign (codes "t1") Recursive (codes "$(f {)")), Refused OpenLine) ∷  -- random-879
    (codes "\t\\\nc &: \tt :  #\r\nt#c\r\nexport \tCC :::= |$(a b)\r\n$(p #):  %.c \tc %.c \r\n\\\nprivate -x_9 ?= t1 \r# x ; y : z = 1\r\nendef # c\r\nendef#c\r\n", AddRecipe None (codes "$(p #)") Last (codes "cÿ"), Becomes (codes "\t\\\nc &: \tt :  #\r\nt#c\r\nexport \tCC :::= |$(a b)\r\n$(p #):  %.c \tc %.c \r\n\tcÿ\n\\\nprivate -x_9 ?= t1 \r# x ; y : z = 1\r\nendef # c\r\nendef#c\r\n")) ∷  -- random-880
    (codes "endif # c\r\n$(q:;=|): : | $x; $ \\\n\\\n\nx.o&::  ;  2 3$(s\\)\\\n\t\\\r\n$(a b)#\0\r\n${c} : t\tfoo  $(a b) ;  \ndefine += ${c}\r\nc:\\\r\n$(f {) \\\n.PHONY |$(q:;=|)\n", ChangePrereqs None (codes "${c}") (RemovePrereq (codes "$(a b)")), Becomes (codes "endif # c\r\n$(q:;=|): : | $x; $ \\\n\\\n\nx.o&::  ;  2 3$(s\\)\\\n\t\\\r\n$(a b)#\0\r\n${c} : t\tfoo ;  \ndefine += ${c}\r\nc:\\\r\n$(f {) \\\n.PHONY |$(q:;=|)\n")) ∷  -- random-881
    (codes ".RECIPEPREFIX = $$\r\nendif\r\nCC \\\r\n ::=\t$(w \\\n\\\nx.o # c\r\nelse\r\n", RemoveLines (OfAssign None (codes "CC")), Refused RecipePrefix) ∷  -- random-882
    (codes "endef\r\nfoo: $(s\\\tendef\n\t$(\r\nfoo: b  %o\ntendif\n\t !\tendif\r\n>.PHONY :oerride\tdefine ?= $(a b) #\\\\\\\n\r\nta\\\r\n", AddLine Bottom (NewRule (codes "a&b") Single []), Refused OpenLine) ∷  -- random-883
    (codes "x.o y: \n%.o .PHONY: private \tA:::=\\\n\t\\\r\n\\$x\n\\\nendef # c\ntifdef Z\\\n", SetRecipe None (codes "x.o") (ByNumber 2) (codes "q:=1"), Refused Absent) ∷  -- random-884
    (codes "override +=$(m \\\n n) \\\n#\0\r\n$(s\\)&: $(f {) \t-include2\\\r\nb #\\\\\r\n>ifdef Z\r\n\ta\\\\\r\n", RemoveLines (OfRule None (codes "$(s\\)")), Becomes (codes "override +=$(m \\\n n) \\\n#\0\r\n>ifdef Z\r\n\ta\\\\\r\n")) ∷  -- random-885
    (codes "#\nendef#c\noverride undefine X\n\t%.o \\\r\n : ${c}  ${g(} |  \n$(f {) : c \t.PHONY \\\n#\r\n$x:\\\nÃ©\tfoo $x\\\r\n\n\t\n \n$$::$x \tt b ; a&b$(w \\\n  \r\nx.o y: a&b\tx.o\n>$(\n\tt: u\nb &:  foo  $(s\\)  ", SetRecipe None (codes "$(p #)") (ByNumber 0) (codes "define"), Refused NoSuch) ∷  -- random-886
    ([], AddLine Bottom (NewAssign (codes "CC") Immediate (codes "\\#")), Becomes (codes "CC :::= \\#\n")) ∷  -- random-887
    (codes ".RECIPEPREFIX = .\nendif # c\n%.o  .PHONY: $$ $| #\0\na: %.c\noverride += $(s\\)\\\r\nt\\\n| # \\\n#\\\\\n\nat: u\ndefine != ${c} \n", ChangeValue (One None) (codes "ifdef") (edits.Set (codes "$(f {) $$")), Refused NoSuch) ∷  -- random-888
    (codes "\nfoo\\\r\n$x ::;o\trride .RECIPEPREFIX ?=\\\n\\\n# \r\n -include2 $(p #) :: x.o \\\n", RemoveLines (OfRule None (codes "$x")), Refused (SharedRule 2)) ∷  -- random-889
    (codes ".RECIPEPREFIX = b\r\n%.o : $$ .PHONY $(p #) | \t-include2  ${c} \\\n \\\n \r\n", ChangeValue (One None) (codes ".RECIPEPREFIX") (edits.Append (codes "$(s\\) 1")), Refused Reserved) ∷  -- random-890
    (codes "\tZ = 1\nx.o y: \nelse\n$(a b)  &:| -include2 \n", ChangePrereqs None (codes "y") (RemovePrereq (codes "${g(}")), Refused Absent) ∷  -- random-891
    (codes ".RECIPEPREFIX = :\n\\#: a %.o $x=| \n", AddLine (AfterVar (Some 1) (codes ".RECIPEPREFIX")) (NewAssign (codes "CC") Conditional (codes "b")), Refused Reserved) ∷  -- random-892
    (codes "\tendif\nt $(s\\): :a \\\n  \nx.o y: ${g(}\n\t#c\n>a\\\r\n>b\nt1 :== \nt\t&:$(s\\) \r\ndefine \t+=   #\\\\\nfoo c : $(p #): \\\n   \t\n", RenameTarget (codes "foo") (codes "a&b"), Becomes (codes "\tendif\nt $(s\\): :a \\\n  \nx.o y: ${g(}\n\t#c\n>a\\\r\n>b\nt1 :== \nt\t&:$(s\\) \r\ndefine \t+=   #\\\\\na&b c : $(p #): \\\n   \t\n")) ∷  -- random-893
    (codes ".REC=PEPREFIX = b\nendef\\\n!= !:\\\\\n\\\n\\\n1\r\n>-include b c\nt\n", ChangeValue (One None) (codes ".REC") (edits.Set (codes ";")), Becomes (codes ".REC=;\nendef\\\n!= !:\\\\\n\\\n\\\n1\r\n>-include b c\nt\n")) ∷  -- random-894
    (codes "b &::  #\\\\\nt: $(p #) $(p #) \t; \\# $(q:;=|) \0\nifndef X # c\ntx\noverride .RECIPEPREFIX =\\\na\n", RemoveLines (OfRule None (codes "b")), Refused RecipePrefix) ∷  -- random-895
    (codes "t1 += $(f {) \t#\n>y\r\n# x ; y : z = 1\na&b ::: %.o\t${g(}\t|-include2\t${c} \nendef x\nendef\n\t\\\n$(f {) : %.c : ${g(}\\\r\n\n\tCC != \\\\\n\ta\\\\", ChangeValue (One None) (codes "t1") (edits.Set []), Becomes (codes "t1 += #\n>y\r\n# x ; y : z = 1\na&b ::: %.o\t${g(}\t|-include2\t${c} \nendef x\nendef\n\t\\\n$(f {) : %.c : ${g(}\\\r\n\n\tCC != \\\\\n\ta\\\\")) ∷  -- random-896
    (codes ".RECIPEPREFIX = $$\n>q\t!=\\\\ $#\\  \nexport >q := \t${c} $\\\n   \r\nfoo :::\t${g(} \t.PHONY \\\n$(s\\) \\\r\n |foo $$#\\\\\\\n\n$$:\\\n\t\\\r\nt \r\n", RemoveLines (OfRecipe None (codes "$$") (ByNumber 2)), Refused RecipePrefix) ∷  -- random-897
    (codes ".RECIPEPREFIX =Ã\n>a\\\r\n>b\npr>ate overri:de?=\\\n \r\nab += \r 2 3 \\ ", ChangeValue (One None) (codes ".RECIPEPREFIX") (edits.Append (codes "= $(p #)")), Refused Reserved) ∷  -- random-898
    (codes ">ifdef Z\na&b: \tc \t|  \t\n", ChangePrereqs None (codes "a&b") (AddPrereq false (codes "$(s\\)")), Becomes (codes ">ifdef Z\na&b: \tc $(s\\) \t|  \t\n")) ∷  -- random-899
    (codes "-include2&:: $$ |\n", RemoveLines (OfRule None (codes "-include2")), Becomes []) ∷  -- random-900
    []

answers_18 : map (λ row. outcome row.0 row.1) rows_18 ≡ map (λ row. row.2) rows_18
answers_18 = refl
