-- Edits with their answers. Made by `tests/definitions/edit_rows.py tests/cases/edits/corners.tsv`.
use Rattle.std.proofs.Common.{◌≡◌, refl, ℕ, true, false, List, [], ◌∷◌, map, Some, None}
use Rattle.std.specs.Prelude.{codes}
use Rattle.mk_class.specs.declared.assignment.Flavor.TheVariants.{Recursive, Simple, PosixSimple, Immediate, Conditional, Append, Shell}
use Rattle.mk_edit_language.specs.declared.edit.RuleSeparator.TheVariants.{Single, Double}
use Rattle.mk_edit_language.specs.Edits.{Edit, Bottom, BeforeVar, AfterVar, BeforeRule}
use Rattle.mk_edit_language.specs.Edits.{One, Every, NewAssign, NewRule, AddPrereq, RemovePrereq, ByNumber, Last, OfAssign, OfRule, OfRecipe, ChangeValue, ChangePrereqs, AddLine, AddRecipe, SetRecipe, RemoveLines, RenameTarget}
use Rattle.mk_edit_language.specs.Edits as edits
use Rattle.mk_edit_language.specs.declared.refusal.Refusal.TheVariants.{BadArgument, Reserved, RecipePrefix, NoSuch, Ambiguous, Absent, Already, Taken, SharedRule, Straddles, OpenValue, OpenLine, OpenDefine, Leans}
use Rattle.mk_edit_language.specs.declared.refusal.Field.TheVariants as field
use Rattle.mk_rows.proofs.edits.Outcomes.{account, Account, span, Becomes, Accepted, NotMade}

abbrev rows_1 : List (List ℕ × Edit × Account)
rows_1 =
    (codes ".RECIPEPREFIX = X\nifdef A\na:\n", RenameTarget (codes "a") (codes "X1"), NotMade 1 RecipePrefix) ∷  -- prefix-001
    (codes ".RECIPEPREFIX = b\na: b\n.RECIPEPREFIX=\nf: a\n", RenameTarget (codes "a") (codes "%1"), Accepted 2 2 (span 18 19 (codes "%1") ∷ span 41 42 (codes "%1") ∷ []) (Becomes (codes ".RECIPEPREFIX = b\n%1: b\n.RECIPEPREFIX=\nf: %1\n"))) ∷  -- prefix-002
    (codes ".RECIPEPREFIX = f\n a: b a\nfz\nf: a\n", AddLine (BeforeRule None (codes "a")) (NewRule (codes "f a") Single (codes "c")), NotMade 1 RecipePrefix) ∷  -- prefix-003
    (codes ".RECIPEPREFIX = a\nfoo:\nax\n.RECIPEPREFIX=\nf: a\n", AddLine (BeforeRule (Some 2) (codes "foo")) (NewRule (codes "a x.o") Single (codes "${g(} .PHONY")), NotMade 1 NoSuch) ∷  -- prefix-004
    (codes ".RECIPEPREFIX = t\nX=1\nf: a\n", RenameTarget (codes "f") (codes "q1"), Accepted 1 1 (span 22 23 (codes "q1") ∷ []) (Becomes (codes ".RECIPEPREFIX = t\nX=1\nq1: a\n"))) ∷  -- prefix-005
    (codes ".RECIPEPREFIX = -\ndefine D\nendef\nX=2\n", AddLine (AfterVar None (codes "X")) (NewAssign (codes "x") PosixSimple (codes "1")), Accepted 1 0 (span 37 37 (codes "x ::= 1\n") ∷ []) (Becomes (codes ".RECIPEPREFIX = -\ndefine D\nendef\nX=2\nx ::= 1\n"))) ∷  -- prefix-006
    (codes ".RECIPEPREFIX = >\na: b\n>y\n", AddLine Bottom (NewAssign (codes "1") Simple (codes "1")), Accepted 1 0 (span 26 26 (codes "1 := 1\n") ∷ []) (Becomes (codes ".RECIPEPREFIX = >\na: b\n>y\n1 := 1\n"))) ∷  -- prefix-007
    (codes ".RECIPEPREFIX = f\nifdef A\nf: a\n", AddLine (AfterVar None (codes ".RECIPEPREFIX")) (NewRule (codes "$(q:;=|)") Double []), NotMade 1 Reserved) ∷  -- prefix-008
    (codes ".RECIPEPREFIX = f\nb a: X = 1\n>y", AddLine Bottom (NewRule (codes "qx a") Single (codes "c")), Accepted 1 0 (span 31 31 (codes "\nqx a: c\n") ∷ []) (Becomes (codes ".RECIPEPREFIX = f\nb a: X = 1\n>y\nqx a: c\n"))) ∷  -- prefix-009
    (codes ".RECIPEPREFIX = .\nifdef A\n.RECIPEPREFIX=\n.y\n", AddLine Bottom (NewRule (codes "%.c") Single (codes "b .PHONY")), NotMade 1 RecipePrefix) ∷  -- prefix-010
    (codes ".RECIPEPREFIX = .\nX=1\n.y\n", AddLine (BeforeVar None (codes "X")) (NewAssign (codes "t") PosixSimple (codes "1")), Accepted 1 0 (span 18 18 (codes "t ::= 1\n") ∷ []) (Becomes (codes ".RECIPEPREFIX = .\nt ::= 1\nX=1\n.y\n"))) ∷  -- prefix-011
    (codes ".RECIPEPREFIX = %\nfoo:\n%x\na: f\na:\n", AddLine Bottom (NewAssign (codes "qx") Simple (codes "1")), Accepted 1 0 (span 34 34 (codes "qx := 1\n") ∷ []) (Becomes (codes ".RECIPEPREFIX = %\nfoo:\n%x\na: f\na:\nqx := 1\n"))) ∷  -- prefix-012
    (codes ".RECIPEPREFIX = .\nb a: X = 1\n", AddLine (AfterVar None (codes ".RECIPEPREFIX")) (NewAssign (codes "CC") Immediate (codes "a")), NotMade 1 Reserved) ∷  -- prefix-013
    (codes ".RECIPEPREFIX = -\nifdef A\na:\n", AddLine (BeforeRule None (codes "a")) (NewAssign (codes "-x") Append (codes "1")), NotMade 1 RecipePrefix) ∷  -- prefix-014
    (codes ".RECIPEPREFIX = b\nfoo:\nbx\n.RECIPEPREFIX=-\n-y", AddLine Bottom (NewAssign (codes "-") Conditional (codes "1")), NotMade 1 RecipePrefix) ∷  -- prefix-015
    (codes ".RECIPEPREFIX = a\nb a: X = 1\nay", AddLine Bottom (NewAssign (codes "q1") Immediate (codes "1")), Accepted 1 0 (span 31 31 (codes "\nq1 :::= 1\n") ∷ []) (Becomes (codes ".RECIPEPREFIX = a\nb a: X = 1\nay\nq1 :::= 1\n"))) ∷  -- prefix-016
    (codes ".RECIPEPREFIX = -\nfoo:\n-x\n.RECIPEPREFIX=\na:\n", AddLine (BeforeRule None (codes "a")) (NewAssign (codes "-") Immediate (codes "1")), Accepted 1 0 (span 41 41 (codes "- :::= 1\n") ∷ []) (Becomes (codes ".RECIPEPREFIX = -\nfoo:\n-x\n.RECIPEPREFIX=\n- :::= 1\na:\n"))) ∷  -- prefix-017
    (codes ".RECIPEPREFIX = -\nifdef A\n-z\n-y\n", AddLine (AfterVar None (codes "A")) (NewAssign (codes "t") Shell (codes "1")), NotMade 1 NoSuch) ∷  -- prefix-018
    (codes ".RECIPEPREFIX = f\nfoo:\nfx\nX=2\n", AddLine (AfterVar None (codes "X")) (NewAssign (codes "q") Recursive (codes "1")), Accepted 1 0 (span 30 30 (codes "q = 1\n") ∷ []) (Becomes (codes ".RECIPEPREFIX = f\nfoo:\nfx\nX=2\nq = 1\n"))) ∷  -- prefix-019
    (codes ".RECIPEPREFIX = t\nX=1\nty\n", AddLine (AfterVar (Some 4294967295) (codes "X")) (NewRule (codes "t a") Single (codes "c")), NotMade 1 NoSuch) ∷  -- prefix-020
    (codes ".RECIPEPREFIX = \\t\ndefine D\nendef\na:\n", ChangePrereqs None (codes "a") (AddPrereq false (codes "%.o")), NotMade 1 RecipePrefix) ∷  -- prefix-021
    (codes ".RECIPEPREFIX = e\nifdef A\nez\ney\n", RenameTarget (codes "$&") (codes "c"), NotMade 0 (BadArgument field.Old)) ∷  -- prefix-022
    (codes ".RECIPEPREFIX = f\na: b\n.RECIPEPREFIX=t\nf: a\n", AddLine (BeforeRule None (codes "f")) (NewAssign (codes "x") Recursive (codes "1")), Accepted 1 0 (span 39 39 (codes "x = 1\n") ∷ []) (Becomes (codes ".RECIPEPREFIX = f\na: b\n.RECIPEPREFIX=t\nx = 1\nf: a\n"))) ∷  -- prefix-023
    (codes ".RECIPEPREFIX = b\nX=1\nbz\n%y", AddLine (BeforeVar (Some 0) (codes "X")) (NewRule (codes "%x a") Single (codes "c")), NotMade 1 NoSuch) ∷  -- prefix-024
    (codes ".RECIPEPREFIX = .\nifdef A\na: f\nX=2\n", AddLine (BeforeVar None (codes "X")) (NewRule (codes ">x") Single (codes "c")), Accepted 1 0 (span 31 31 (codes ">x: c\n") ∷ []) (Becomes (codes ".RECIPEPREFIX = .\nifdef A\na: f\n>x: c\nX=2\n"))) ∷  -- prefix-025
    (codes ".RECIPEPREFIX = b\nb a: X = 1\nbz\n", AddLine (BeforeRule None (codes "$(p #)")) (NewRule (codes "q") Single (codes "c")), NotMade 1 NoSuch) ∷  -- prefix-026
    (codes ".RECIPEPREFIX = %\nfoo:\n%x\n.RECIPEPREFIX=b\na:\n", RenameTarget (codes "a") (codes "1"), Accepted 1 1 (span 42 43 (codes "1") ∷ []) (Becomes (codes ".RECIPEPREFIX = %\nfoo:\n%x\n.RECIPEPREFIX=b\n1:\n"))) ∷  -- prefix-027
    (codes ".RECIPEPREFIX = -\nfoo:\n-x\n-z\na:\n", AddLine Bottom (NewAssign (codes "-1") Recursive (codes "1")), NotMade 1 RecipePrefix) ∷  -- prefix-028
    (codes ".RECIPEPREFIX = a\nX=1\na: f\nay\n", AddLine (BeforeVar (Some 0) (codes "X")) (NewRule (codes " q") Single (codes "c")), NotMade 1 NoSuch) ∷  -- prefix-029
    (codes ".RECIPEPREFIX = a\nX=1\n.RECIPEPREFIX=\n", AddLine (AfterVar None (codes "X")) (NewRule (codes " q") Single (codes "c")), Accepted 1 0 (span 22 22 (codes "q: c\n") ∷ []) (Becomes (codes ".RECIPEPREFIX = a\nX=1\nq: c\n.RECIPEPREFIX=\n"))) ∷  -- prefix-030
    (codes ".RECIPEPREFIX = b\nfoo:\nbx\n.RECIPEPREFIX=f\na:\n", RenameTarget (codes "foo") (codes "x"), Accepted 1 1 (span 18 21 (codes "x") ∷ []) (Becomes (codes ".RECIPEPREFIX = b\nx:\nbx\n.RECIPEPREFIX=f\na:\n"))) ∷  -- prefix-031
    (codes ".RECIPEPREFIX = b\n a: b a\n.RECIPEPREFIX=\nX=2\n", RenameTarget (codes "a") (codes "b1"), Accepted 1 1 (span 19 20 (codes "b1") ∷ span 24 25 (codes "b1") ∷ []) (Becomes (codes ".RECIPEPREFIX = b\n b1: b b1\n.RECIPEPREFIX=\nX=2\n"))) ∷  -- prefix-032
    (codes ".RECIPEPREFIX = a\nX=1\n.RECIPEPREFIX=a\nay", ChangeValue (One None) (codes ".RECIPEPREFIX") (edits.Append (codes "$(q:;=|)")), NotMade 1 Reserved) ∷  -- prefix-033
    (codes ".RECIPEPREFIX = e\nfoo:\nex\n.RECIPEPREFIX=f\nfy", AddLine Bottom (NewAssign (codes "1") Conditional (codes "1")), Accepted 1 0 (span 44 44 (codes "\n1 ?= 1\n") ∷ []) (Becomes (codes ".RECIPEPREFIX = e\nfoo:\nex\n.RECIPEPREFIX=f\nfy\n1 ?= 1\n"))) ∷  -- prefix-034
    (codes ".RECIPEPREFIX = >\nifdef A\n>z\nX=2\n", RenameTarget (codes "a") (codes "t"), NotMade 0 NoSuch) ∷  -- prefix-035
    (codes ".RECIPEPREFIX = >\ndefine D\nendef\n.RECIPEPREFIX=t\nX=2\n", RenameTarget (codes "a") (codes "t1"), NotMade 0 NoSuch) ∷  -- prefix-036
    (codes ".RECIPEPREFIX = a\nfoo:\nax\n.RECIPEPREFIX=\nf: a\n", AddLine Bottom (NewAssign (codes "q") Immediate (codes "1")), Accepted 1 0 (span 46 46 (codes "q :::= 1\n") ∷ []) (Becomes (codes ".RECIPEPREFIX = a\nfoo:\nax\n.RECIPEPREFIX=\nf: a\nq :::= 1\n"))) ∷  -- prefix-037
    (codes ".RECIPEPREFIX = X\ndefine D\nendef\nXz\nXy\n", AddLine Bottom (NewAssign (codes "qx") Recursive (codes "1")), Accepted 1 0 (span 39 39 (codes "qx = 1\n") ∷ []) (Becomes (codes ".RECIPEPREFIX = X\ndefine D\nendef\nXz\nXy\nqx = 1\n"))) ∷  -- prefix-038
    (codes ".RECIPEPREFIX = e\nX=1\nez\n", AddLine Bottom (NewRule (codes "e1 a") Single (codes "c")), NotMade 1 RecipePrefix) ∷  -- prefix-039
    (codes ".RECIPEPREFIX = f\nX=1\n.RECIPEPREFIX=\nfy\n", AddLine Bottom (NewAssign (codes "f") Shell (codes "1")), Accepted 1 0 (span 40 40 (codes "f != 1\n") ∷ []) (Becomes (codes ".RECIPEPREFIX = f\nX=1\n.RECIPEPREFIX=\nfy\nf != 1\n"))) ∷  -- prefix-040
    (codes ".RECIPEPREFIX = t\nX=1\n.RECIPEPREFIX=a\n", ChangeValue (One (Some 2)) (codes ".RECIPEPREFIX") (edits.Set []), NotMade 1 Reserved) ∷  -- prefix-041
    (codes ".RECIPEPREFIX = t\na: b\na: f\nty\n", AddLine (BeforeRule (Some 2) (codes "a")) (NewRule (codes " t") Single (codes "c")), NotMade 1 RecipePrefix) ∷  -- prefix-042
    (codes ".RECIPEPREFIX = >\ndefine D\nendef\nf: a\n", RenameTarget (codes "f") (codes ">x"), NotMade 1 RecipePrefix) ∷  -- prefix-043
    (codes ".RECIPEPREFIX = a\ndefine D\nendef\naz\na:\n", AddLine (AfterVar None (codes "t1")) (NewAssign (codes "define") Recursive (codes "c")), NotMade 1 NoSuch) ∷  -- prefix-044
    (codes ".RECIPEPREFIX = X\nb a: X = 1\nXz\na:\n", ChangePrereqs None (codes "a") (AddPrereq false (codes "%.c")), Accepted 1 1 (span 34 34 (codes " %.c") ∷ []) (Becomes (codes ".RECIPEPREFIX = X\nb a: X = 1\nXz\na: %.c\n"))) ∷  -- prefix-045
    (codes ".RECIPEPREFIX = -\ndefine D\nendef\n-z\n-y\n", AddLine Bottom (NewRule (codes " q") Single (codes "c")), Accepted 1 0 (span 39 39 (codes "q: c\n") ∷ []) (Becomes (codes ".RECIPEPREFIX = -\ndefine D\nendef\n-z\n-y\nq: c\n"))) ∷  -- prefix-046
    (codes ".RECIPEPREFIX = e\nfoo:\nex\n.RECIPEPREFIX=-\na:\n", RenameTarget (codes "a") (codes "e1"), Accepted 1 1 (span 42 43 (codes "e1") ∷ []) (Becomes (codes ".RECIPEPREFIX = e\nfoo:\nex\n.RECIPEPREFIX=-\ne1:\n"))) ∷  -- prefix-047
    (codes ".RECIPEPREFIX = t\nfoo:\ntx\na: f\na:\n", AddLine (BeforeRule (Some 2) (codes "a")) (NewAssign (codes "q1") Shell (codes "1")), Accepted 1 0 (span 31 31 (codes "q1 != 1\n") ∷ []) (Becomes (codes ".RECIPEPREFIX = t\nfoo:\ntx\na: f\nq1 != 1\na:\n"))) ∷  -- prefix-048
    (codes ".RECIPEPREFIX = .\n a: b a\n.z\n.y\n", AddLine (BeforeRule None (codes "a")) (NewRule (codes "q a") Single (codes "c")), Accepted 1 0 (span 18 18 (codes "q a: c\n") ∷ []) (Becomes (codes ".RECIPEPREFIX = .\nq a: c\n a: b a\n.z\n.y\n"))) ∷  -- prefix-049
    (codes ".RECIPEPREFIX = a\n a: b a\n.RECIPEPREFIX=\nX=2\n", AddLine (AfterVar None (codes "X")) (NewRule (codes "ax") Single (codes "c")), Accepted 1 0 (span 45 45 (codes "ax: c\n") ∷ []) (Becomes (codes ".RECIPEPREFIX = a\n a: b a\n.RECIPEPREFIX=\nX=2\nax: c\n"))) ∷  -- prefix-050
    []

answers_1 : map (λ row. account row.0 row.1) rows_1 ≡ map (λ row. row.2) rows_1
answers_1 = refl

abbrev rows_2 : List (List ℕ × Edit × Account)
rows_2 =
    (codes ".RECIPEPREFIX = b\n a: b a\na: f\nby\n", AddLine Bottom (NewRule (codes "bx a") Single (codes "c")), NotMade 1 RecipePrefix) ∷  -- prefix-051
    (codes ".RECIPEPREFIX = \\t\nb a: X = 1\n.RECIPEPREFIX=\n", AddLine Bottom (NewRule (codes "\\t a") Single (codes "c")), NotMade 1 (BadArgument field.Targets)) ∷  -- prefix-052
    (codes ".RECIPEPREFIX = %\na: b\nf: a\n", ChangePrereqs None (codes "a") (RemovePrereq (codes "b")), Accepted 1 1 (span 20 22 [] ∷ []) (Becomes (codes ".RECIPEPREFIX = %\na:\nf: a\n"))) ∷  -- prefix-053
    (codes ".RECIPEPREFIX = -\na: b\na: f\n", AddLine Bottom (NewAssign (codes "qx") PosixSimple (codes "1")), Accepted 1 0 (span 28 28 (codes "qx ::= 1\n") ∷ []) (Becomes (codes ".RECIPEPREFIX = -\na: b\na: f\nqx ::= 1\n"))) ∷  -- prefix-054
    (codes ".RECIPEPREFIX = e\ndefine D\nendef\n.RECIPEPREFIX=\n%y", RenameTarget (codes "a") (codes "qx"), NotMade 0 NoSuch) ∷  -- prefix-055
    (codes ".RECIPEPREFIX = b\nb a: X = 1\nbz\n-y", RenameTarget (codes "a") (codes "1"), NotMade 0 NoSuch) ∷  -- prefix-056
    (codes ".RECIPEPREFIX = t\ndefine D\nendef\n.RECIPEPREFIX=\nty\n", ChangeValue (One (Some 2)) (codes ".RECIPEPREFIX") (edits.Append []), NotMade 1 (BadArgument field.Value)) ∷  -- prefix-057
    (codes ".RECIPEPREFIX = e\ndefine D\nendef\nX=2\n", RemoveLines (OfAssign None (codes ".RECIPEPREFIX")), NotMade 0 Reserved) ∷  -- prefix-058
    (codes ".RECIPEPREFIX = .\nX=1\nX=2\n", AddLine (AfterVar (Some 2) (codes "X")) (NewRule (codes ".PHONY") Double (codes "a&b")), NotMade 1 RecipePrefix) ∷  -- prefix-059
    (codes ".RECIPEPREFIX = f\na: b\n.RECIPEPREFIX=\n", ChangeValue (One None) (codes ".RECIPEPREFIX") (edits.Set (codes ": |")), NotMade 1 Reserved) ∷  -- prefix-060
    (codes ".RECIPEPREFIX = X\nfoo:\nXx\n.RECIPEPREFIX=\nX=2\n", RenameTarget (codes "foo") (codes "Xx"), NotMade 1 RecipePrefix) ∷  -- prefix-061
    (codes ".RECIPEPREFIX = X\nX=1\na: f\nX=2\n", AddLine (BeforeVar (Some 1) (codes "X")) (NewRule (codes " q1") Single (codes "c")), NotMade 1 Leans) ∷  -- prefix-062
    (codes ".RECIPEPREFIX = >\n a: b a\n.RECIPEPREFIX=\nX=2\n", RenameTarget (codes "b") (codes "Xx"), NotMade 1 NoSuch) ∷  -- prefix-063
    (codes ".RECIPEPREFIX = e\nfoo:\nex\na: f\nX=2\n", RenameTarget (codes "f") (codes "f1"), NotMade 1 NoSuch) ∷  -- prefix-064
    (codes ".RECIPEPREFIX = t\ndefine D\nendef\nfy", AddLine Bottom (NewRule (codes "x") Single (codes "c")), Accepted 1 0 (span 35 35 (codes "\nx: c\n") ∷ []) (Becomes (codes ".RECIPEPREFIX = t\ndefine D\nendef\nfy\nx: c\n"))) ∷  -- prefix-065
    (codes ".RECIPEPREFIX = %\ndefine D\nendef\na: f\nX=2\n", AddLine Bottom (NewAssign (codes "q") Append (codes "1")), Accepted 1 0 (span 42 42 (codes "q += 1\n") ∷ []) (Becomes (codes ".RECIPEPREFIX = %\ndefine D\nendef\na: f\nX=2\nq += 1\n"))) ∷  -- prefix-066
    (codes ".RECIPEPREFIX = e\nX=1\na: f\nf: a\n", AddLine Bottom (NewRule (codes " a1") Single (codes "c")), Accepted 1 0 (span 32 32 (codes "a1: c\n") ∷ []) (Becomes (codes ".RECIPEPREFIX = e\nX=1\na: f\nf: a\na1: c\n"))) ∷  -- prefix-067
    (codes ".RECIPEPREFIX = >\nfoo:\n>x\nX=2\n", AddLine Bottom (NewRule (codes " >1") Single (codes "c")), NotMade 1 RecipePrefix) ∷  -- prefix-068
    (codes ".RECIPEPREFIX = >\na: b\na: f\n>y\n", AddLine (BeforeVar None (codes "-x_9")) (NewAssign (codes "e1") Shell (codes "1")), NotMade 1 NoSuch) ∷  -- prefix-069
    (codes ".RECIPEPREFIX = e\na: b\n.y", AddLine Bottom (NewAssign (codes "t") Immediate (codes "1")), Accepted 1 0 (span 25 25 (codes "\nt :::= 1\n") ∷ []) (Becomes (codes ".RECIPEPREFIX = e\na: b\n.y\nt :::= 1\n"))) ∷  -- prefix-070
    (codes ".RECIPEPREFIX = e\nX=1\n.RECIPEPREFIX=.\nX=2\n", SetRecipe None (codes "Ã©") (ByNumber 4294967295) (codes ">"), NotMade 1 NoSuch) ∷  -- prefix-071
    (codes ".RECIPEPREFIX = X\n a: b a\n.RECIPEPREFIX=\na:\n", AddLine Bottom (NewRule (codes " t") Single (codes "c")), Accepted 1 0 (span 44 44 (codes "t: c\n") ∷ []) (Becomes (codes ".RECIPEPREFIX = X\n a: b a\n.RECIPEPREFIX=\na:\nt: c\n"))) ∷  -- prefix-072
    (codes ".RECIPEPREFIX = -\n a: b a\na: f\n", AddLine Bottom (NewRule (codes ".x") Single (codes "c")), Accepted 1 0 (span 31 31 (codes ".x: c\n") ∷ []) (Becomes (codes ".RECIPEPREFIX = -\n a: b a\na: f\n.x: c\n"))) ∷  -- prefix-073
    (codes ".RECIPEPREFIX = \\t\nifdef A\n\\tz\n", AddLine Bottom (NewAssign (codes "1") Conditional (codes "1")), NotMade 1 RecipePrefix) ∷  -- prefix-074
    (codes ".RECIPEPREFIX = %\na: b\n%z\na:\n", AddLine Bottom (NewRule (codes "%1") Single (codes "c")), NotMade 1 RecipePrefix) ∷  -- prefix-075
    (codes ".RECIPEPREFIX = \\t\ndefine D\nendef\na: f\nf: a\n", AddLine Bottom (NewAssign (codes "x") Simple (codes "1")), NotMade 1 RecipePrefix) ∷  -- prefix-076
    (codes ".RECIPEPREFIX = b\nb a: X = 1\nbz\nf: a\n", ChangePrereqs (Some 2) (codes "f") (AddPrereq false (codes "t")), NotMade 1 NoSuch) ∷  -- prefix-077
    (codes ".RECIPEPREFIX = .\na: b\na: f\n", AddLine (BeforeRule None (codes "a")) (NewRule (codes "f") Single (codes "c")), NotMade 1 (Ambiguous 2)) ∷  -- prefix-078
    (codes ".RECIPEPREFIX = a\nifdef A\na: f\nX=2\n", ChangeValue (One None) (codes "X") (edits.Set (codes ":")), Accepted 1 1 (span 33 34 (codes ":") ∷ []) (Becomes (codes ".RECIPEPREFIX = a\nifdef A\na: f\nX=:\n"))) ∷  -- prefix-079
    (codes ".RECIPEPREFIX = .\n a: b a\nf: a\n", AddLine (BeforeRule None (codes "f")) (NewRule (codes "qx") Single (codes "c")), Accepted 1 0 (span 26 26 (codes "qx: c\n") ∷ []) (Becomes (codes ".RECIPEPREFIX = .\n a: b a\nqx: c\nf: a\n"))) ∷  -- prefix-080
    (codes ".RECIPEPREFIX = t\nX=1\n.RECIPEPREFIX=X\na:\n", AddLine (AfterVar None (codes "X")) (NewAssign (codes "qx") Shell (codes "1")), Accepted 1 0 (span 22 22 (codes "qx != 1\n") ∷ []) (Becomes (codes ".RECIPEPREFIX = t\nX=1\nqx != 1\n.RECIPEPREFIX=X\na:\n"))) ∷  -- prefix-081
    (codes ".RECIPEPREFIX = .\nfoo:\n.x\n.RECIPEPREFIX=>\n.y\n", AddLine (BeforeRule None (codes "foo")) (NewAssign (codes ".x") Conditional (codes "1")), NotMade 1 RecipePrefix) ∷  -- prefix-082
    (codes ".RECIPEPREFIX = X\n a: b a\nXz\nX=2\n", RenameTarget (codes "a") (codes "e1"), Accepted 1 1 (span 19 20 (codes "e1") ∷ span 24 25 (codes "e1") ∷ []) (Becomes (codes ".RECIPEPREFIX = X\n e1: b e1\nXz\nX=2\n"))) ∷  -- prefix-083
    (codes ".RECIPEPREFIX = f\nX=1\na: f\nay", ChangePrereqs None (codes "a") (AddPrereq true (codes "a&b")), Accepted 1 1 (span 26 26 (codes " | a&b") ∷ []) (Becomes (codes ".RECIPEPREFIX = f\nX=1\na: f | a&b\nay"))) ∷  -- prefix-084
    (codes ".RECIPEPREFIX = .\nX=1\na:\n", AddLine Bottom (NewAssign (codes "t") PosixSimple (codes "1")), Accepted 1 0 (span 25 25 (codes "t ::= 1\n") ∷ []) (Becomes (codes ".RECIPEPREFIX = .\nX=1\na:\nt ::= 1\n"))) ∷  -- prefix-085
    (codes ".RECIPEPREFIX = X\nfoo:\nXx\nX=2\n", AddLine (BeforeRule None (codes "foo")) (NewAssign (codes "x") Immediate (codes "1")), Accepted 1 0 (span 18 18 (codes "x :::= 1\n") ∷ []) (Becomes (codes ".RECIPEPREFIX = X\nx :::= 1\nfoo:\nXx\nX=2\n"))) ∷  -- prefix-086
    (codes ".RECIPEPREFIX = -\nifdef A\na:\n", ChangePrereqs None (codes "a") (RemovePrereq (codes "$(a b)")), NotMade 1 Absent) ∷  -- prefix-087
    (codes ".RECIPEPREFIX = t\nfoo:\ntx\ntz\na:\n", RenameTarget (codes "foo") (codes "1"), Accepted 1 1 (span 18 21 (codes "1") ∷ []) (Becomes (codes ".RECIPEPREFIX = t\n1:\ntx\ntz\na:\n"))) ∷  -- prefix-088
    (codes ".RECIPEPREFIX = b\n a: b a\na: f\nX=2\n", AddLine Bottom (NewAssign (codes "x") Immediate (codes "1")), Accepted 1 0 (span 35 35 (codes "x :::= 1\n") ∷ []) (Becomes (codes ".RECIPEPREFIX = b\n a: b a\na: f\nX=2\nx :::= 1\n"))) ∷  -- prefix-089
    (codes ".RECIPEPREFIX = f\nb a: X = 1\nfz\nX=2\n", AddLine Bottom (NewRule (codes "\\tx a") Single (codes "c")), NotMade 1 (BadArgument field.Targets)) ∷  -- prefix-090
    (codes ".RECIPEPREFIX = a\nX=1\n.RECIPEPREFIX=t\nf: a\n", AddLine (BeforeRule None (codes "$(a b)")) (NewAssign (codes "Y") Conditional []), NotMade 1 NoSuch) ∷  -- prefix-091
    (codes ".RECIPEPREFIX = t\nX=1\nX=2\n", RemoveLines (OfAssign (Some 2) (codes ".RECIPEPREFIX")), NotMade 0 Reserved) ∷  -- prefix-092
    (codes ".RECIPEPREFIX = %\nX=1\na: f\n%y\n", AddLine (AfterVar (Some 0) (codes "X")) (NewRule (codes "X a") Single (codes "c")), NotMade 1 NoSuch) ∷  -- prefix-093
    (codes ".RECIPEPREFIX = .\nX=1\n.z\n", RenameTarget (codes "a") (codes "q1"), NotMade 0 NoSuch) ∷  -- prefix-094
    (codes ".RECIPEPREFIX = >\nb a: X = 1\na: f\nX=2\n", RenameTarget (codes "b") (codes "qx"), Accepted 1 1 (span 18 19 (codes "qx") ∷ []) (Becomes (codes ".RECIPEPREFIX = >\nqx a: X = 1\na: f\nX=2\n"))) ∷  -- prefix-095
    (codes ".RECIPEPREFIX = >\ndefine D\nendef\na: f\nX=2\n", AddLine (AfterVar None (codes "X")) (NewRule (codes " q1") Single (codes "c")), Accepted 1 0 (span 42 42 (codes "q1: c\n") ∷ []) (Becomes (codes ".RECIPEPREFIX = >\ndefine D\nendef\na: f\nX=2\nq1: c\n"))) ∷  -- prefix-096
    (codes ".RECIPEPREFIX = >\nX=1\n", AddLine (BeforeVar None (codes "a.b")) (NewAssign (codes "t") Recursive (codes "1")), NotMade 1 NoSuch) ∷  -- prefix-097
    (codes ".RECIPEPREFIX = a\n a: b a\na: f\nX=2\n", AddLine (BeforeRule None (codes "a")) (NewAssign (codes "t") Recursive (codes "1")), Accepted 1 0 (span 18 18 (codes "t = 1\n") ∷ []) (Becomes (codes ".RECIPEPREFIX = a\nt = 1\n a: b a\na: f\nX=2\n"))) ∷  -- prefix-098
    (codes ".RECIPEPREFIX = X\nfoo:\nXx\na: f\n", RenameTarget (codes "a") (codes "q"), Accepted 1 1 (span 26 27 (codes "q") ∷ []) (Becomes (codes ".RECIPEPREFIX = X\nfoo:\nXx\nq: f\n"))) ∷  -- prefix-099
    (codes ".RECIPEPREFIX = b\na: b\n.RECIPEPREFIX=f\n", AddLine Bottom (NewRule (codes "b1") Single (codes "c")), Accepted 1 0 (span 39 39 (codes "b1: c\n") ∷ []) (Becomes (codes ".RECIPEPREFIX = b\na: b\n.RECIPEPREFIX=f\nb1: c\n"))) ∷  -- prefix-100
    []

answers_2 : map (λ row. account row.0 row.1) rows_2 ≡ map (λ row. row.2) rows_2
answers_2 = refl

abbrev rows_3 : List (List ℕ × Edit × Account)
rows_3 =
    (codes ".RECIPEPREFIX = b\nfoo:\nbx\nbz\n%y", RenameTarget (codes "foo") (codes "q1"), Accepted 1 1 (span 18 21 (codes "q1") ∷ []) (Becomes (codes ".RECIPEPREFIX = b\nq1:\nbx\nbz\n%y"))) ∷  -- prefix-101
    (codes ".RECIPEPREFIX = -\nb a: X = 1\n.RECIPEPREFIX=\n\\ty", AddLine Bottom (NewAssign (codes "-1") Immediate (codes "1")), Accepted 1 0 (span 47 47 (codes "\n-1 :::= 1\n") ∷ []) (Becomes (codes ".RECIPEPREFIX = -\nb a: X = 1\n.RECIPEPREFIX=\n\\ty\n-1 :::= 1\n"))) ∷  -- prefix-102
    (codes ".RECIPEPREFIX = X\na: b\nXz\na:\n", AddLine (BeforeRule (Some 1) (codes "a")) (NewAssign (codes "t") Shell (codes "1")), Accepted 1 0 (span 18 18 (codes "t != 1\n") ∷ []) (Becomes (codes ".RECIPEPREFIX = X\nt != 1\na: b\nXz\na:\n"))) ∷  -- prefix-103
    (codes ".RECIPEPREFIX = e\nifdef A\na: f\nf: a\n", RenameTarget (codes "a") (codes ".1"), Accepted 2 2 (span 26 27 (codes ".1") ∷ span 34 35 (codes ".1") ∷ []) (Becomes (codes ".RECIPEPREFIX = e\nifdef A\n.1: f\nf: .1\n"))) ∷  -- prefix-104
    (codes ".RECIPEPREFIX = >\nifdef A\n>z\nf: a\n", AddLine (AfterVar None (codes "a.b")) (NewRule (codes "x a") Single (codes "c")), NotMade 1 NoSuch) ∷  -- prefix-105
    (codes ".RECIPEPREFIX = b\nfoo:\nbx\na: f\n", RenameTarget (codes "foo") (codes "t"), Accepted 1 1 (span 18 21 (codes "t") ∷ []) (Becomes (codes ".RECIPEPREFIX = b\nt:\nbx\na: f\n"))) ∷  -- prefix-106
    (codes ".RECIPEPREFIX = b\nfoo:\nbx\nbz\nf: a\n", AddLine Bottom (NewAssign (codes "bx") Recursive (codes "1")), NotMade 1 RecipePrefix) ∷  -- prefix-107
    (codes ".RECIPEPREFIX = f\nfoo:\nfx\nfz\nf: a\n", AddLine Bottom (NewAssign (codes "q1") PosixSimple (codes "1")), Accepted 1 0 (span 34 34 (codes "q1 ::= 1\n") ∷ []) (Becomes (codes ".RECIPEPREFIX = f\nfoo:\nfx\nfz\nf: a\nq1 ::= 1\n"))) ∷  -- prefix-108
    (codes ".RECIPEPREFIX = .\nX=1\n.RECIPEPREFIX=\n", RenameTarget (codes "a") (codes ".x"), NotMade 0 NoSuch) ∷  -- prefix-109
    (codes ".RECIPEPREFIX = .\nifdef A\na: f\nf: a\n", RenameTarget (codes "f") (codes "ax"), Accepted 2 2 (span 29 30 (codes "ax") ∷ span 31 32 (codes "ax") ∷ []) (Becomes (codes ".RECIPEPREFIX = .\nifdef A\na: ax\nax: a\n"))) ∷  -- prefix-110
    (codes ".RECIPEPREFIX = t\nb a: X = 1\na: f\nfy", AddLine (BeforeRule None (codes "a")) (NewRule (codes "x") Single (codes "c")), Accepted 1 0 (span 29 29 (codes "x: c\n") ∷ []) (Becomes (codes ".RECIPEPREFIX = t\nb a: X = 1\nx: c\na: f\nfy"))) ∷  -- prefix-111
    (codes ".RECIPEPREFIX = t\nifdef A\na: f\na:\n", ChangePrereqs (Some 2) (codes "a") (AddPrereq false (codes "-include2")), Accepted 1 1 (span 33 33 (codes " -include2") ∷ []) (Becomes (codes ".RECIPEPREFIX = t\nifdef A\na: f\na: -include2\n"))) ∷  -- prefix-112
    (codes ".RECIPEPREFIX = f\nX=1\na: f\nf: a\n", RemoveLines (OfRecipe (Some 1) (codes "a") (ByNumber 1)), Accepted 0 1 (span 27 32 [] ∷ []) (Becomes (codes ".RECIPEPREFIX = f\nX=1\na: f\n"))) ∷  -- prefix-113
    (codes ".RECIPEPREFIX = X\nifdef A\nXz\nX=2\n", ChangeValue (One (Some 2)) (codes ".RECIPEPREFIX") (edits.Set []), NotMade 1 Reserved) ∷  -- prefix-114
    (codes ".RECIPEPREFIX = >\na: b\n.RECIPEPREFIX=t\nX=2\n", AddLine (AfterVar None (codes "X")) (NewRule (codes " 1") Single (codes "c")), Accepted 1 0 (span 43 43 (codes "1: c\n") ∷ []) (Becomes (codes ".RECIPEPREFIX = >\na: b\n.RECIPEPREFIX=t\nX=2\n1: c\n"))) ∷  -- prefix-115
    (codes ".RECIPEPREFIX = b\ndefine D\nendef\nf: a\n", AddLine Bottom (NewRule (codes "%1 a") Single (codes "c")), Accepted 1 0 (span 38 38 (codes "%1 a: c\n") ∷ []) (Becomes (codes ".RECIPEPREFIX = b\ndefine D\nendef\nf: a\n%1 a: c\n"))) ∷  -- prefix-116
    (codes ".RECIPEPREFIX = t\nX=1\n.RECIPEPREFIX=-\nty\n", ChangeValue (One (Some 1)) (codes ".RECIPEPREFIX") (edits.Append (codes "${c}")), NotMade 1 Reserved) ∷  -- prefix-117
    (codes ".RECIPEPREFIX = f\nifdef A\nfz\nf: a\n", RenameTarget (codes "a") (codes "qx"), NotMade 0 NoSuch) ∷  -- prefix-118
    (codes ".RECIPEPREFIX = .\nb a: X = 1\n.RECIPEPREFIX=\ney", ChangeValue (One (Some 2)) (codes "a.b") (edits.Set (codes "1 $(q:;=|)")), NotMade 1 NoSuch) ∷  -- prefix-119
    (codes ".RECIPEPREFIX = f\nifdef A\nfz\nXy", AddLine (AfterVar None (codes ".RECIPEPREFIX")) (NewRule (codes "${g(}") Single (codes ".PHONY b")), NotMade 1 Reserved) ∷  -- prefix-120
    (codes ".RECIPEPREFIX = >\nfoo:\n>x\n.RECIPEPREFIX=a\n", AddLine (BeforeRule (Some 2) (codes "foo")) (NewAssign (codes ">x") Recursive (codes "1")), NotMade 1 (BadArgument field.Name)) ∷  -- prefix-121
    (codes ".RECIPEPREFIX = %\nb a: X = 1\na: f\nf: a\n", RemoveLines (OfRule None (codes "f")), Accepted 0 1 (span 34 39 [] ∷ []) (Becomes (codes ".RECIPEPREFIX = %\nb a: X = 1\na: f\n"))) ∷  -- prefix-122
    (codes ".RECIPEPREFIX = >\nb a: X = 1\na: f\nf: a\n", RenameTarget (codes "a") (codes "t"), Accepted 3 3 (span 20 21 (codes "t") ∷ span 29 30 (codes "t") ∷ span 37 38 (codes "t") ∷ []) (Becomes (codes ".RECIPEPREFIX = >\nb t: X = 1\nt: f\nf: t\n"))) ∷  -- prefix-123
    (codes ".RECIPEPREFIX = t\na: b\n", RenameTarget (codes "b") (codes "q"), NotMade 1 NoSuch) ∷  -- prefix-124
    (codes ".RECIPEPREFIX = X\n a: b a\na: f\nf: a\n", RenameTarget (codes "a") (codes "fx"), Accepted 3 3 (span 19 20 (codes "fx") ∷ span 24 25 (codes "fx") ∷ span 26 27 (codes "fx") ∷ span 34 35 (codes "fx") ∷ []) (Becomes (codes ".RECIPEPREFIX = X\n fx: b fx\nfx: f\nf: fx\n"))) ∷  -- prefix-125
    (codes ".RECIPEPREFIX = .\nX=1\n.z\na:\n", AddLine (BeforeVar None (codes "X")) (NewRule (codes " bx") Single (codes "c")), Accepted 1 0 (span 18 18 (codes "bx: c\n") ∷ []) (Becomes (codes ".RECIPEPREFIX = .\nbx: c\nX=1\n.z\na:\n"))) ∷  -- prefix-126
    (codes ".RECIPEPREFIX = a\nifdef A\na: f\nf: a\n", AddLine Bottom (NewRule (codes "q1 a") Single (codes "c")), Accepted 1 0 (span 36 36 (codes "q1 a: c\n") ∷ []) (Becomes (codes ".RECIPEPREFIX = a\nifdef A\na: f\nf: a\nq1 a: c\n"))) ∷  -- prefix-127
    (codes ".RECIPEPREFIX = e\na: b\na: f\n", RenameTarget (codes "f") (codes "q"), NotMade 1 NoSuch) ∷  -- prefix-128
    (codes ".RECIPEPREFIX = e\n a: b a\n.RECIPEPREFIX=a\nX=2\n", AddLine Bottom (NewAssign (codes "t") Append (codes "1")), Accepted 1 0 (span 46 46 (codes "t += 1\n") ∷ []) (Becomes (codes ".RECIPEPREFIX = e\n a: b a\n.RECIPEPREFIX=a\nX=2\nt += 1\n"))) ∷  -- prefix-129
    (codes ".RECIPEPREFIX = -\nX=1\nX=2\n", AddLine (BeforeVar (Some 1) (codes "X")) (NewAssign (codes "-x") PosixSimple (codes "1")), NotMade 1 RecipePrefix) ∷  -- prefix-130
    (codes ".RECIPEPREFIX = X\ndefine D\nendef\n.RECIPEPREFIX=f\nfy", RemoveLines (OfRecipe None (codes "$x") (ByNumber 4294967295)), NotMade 0 NoSuch) ∷  -- prefix-131
    (codes ".RECIPEPREFIX = t\nX=1\na:\n", AddLine (BeforeVar None (codes "X")) (NewRule (codes "bx") Single (codes "c")), Accepted 1 0 (span 18 18 (codes "bx: c\n") ∷ []) (Becomes (codes ".RECIPEPREFIX = t\nbx: c\nX=1\na:\n"))) ∷  -- prefix-132
    (codes ".RECIPEPREFIX = %\nifdef A\n%z\n%y\n", AddLine (BeforeVar None (codes ".RECIPEPREFIX")) (NewAssign (codes "a.b") Recursive (codes "| $(f {)")), NotMade 1 Reserved) ∷  -- prefix-133
    (codes ".RECIPEPREFIX = t\nfoo:\ntx\nty\n", AddLine Bottom (NewAssign (codes "e1") Immediate (codes "1")), Accepted 1 0 (span 29 29 (codes "e1 :::= 1\n") ∷ []) (Becomes (codes ".RECIPEPREFIX = t\nfoo:\ntx\nty\ne1 :::= 1\n"))) ∷  -- prefix-134
    (codes ".RECIPEPREFIX = .\nfoo:\n.x\na: f\na:\n", AddLine (BeforeRule (Some 4294967295) (codes "foo")) (NewAssign (codes ".") Immediate (codes "1")), NotMade 1 NoSuch) ∷  -- prefix-135
    (codes ".RECIPEPREFIX = >\ndefine D\nendef\n.RECIPEPREFIX=\n", RemoveLines (OfAssign (Some 1) (codes ".RECIPEPREFIX")), NotMade 0 Reserved) ∷  -- prefix-136
    (codes ".RECIPEPREFIX = X\nb a: X = 1\na: f\na:\n", AddLine (BeforeRule (Some 2) (codes "a")) (NewAssign (codes "x") Conditional (codes "1")), Accepted 1 0 (span 34 34 (codes "x ?= 1\n") ∷ []) (Becomes (codes ".RECIPEPREFIX = X\nb a: X = 1\na: f\nx ?= 1\na:\n"))) ∷  -- prefix-137
    (codes ".RECIPEPREFIX = .\nb a: X = 1\n.z\na:\n", RenameTarget (codes "b") (codes "1"), Accepted 1 1 (span 18 19 (codes "1") ∷ []) (Becomes (codes ".RECIPEPREFIX = .\n1 a: X = 1\n.z\na:\n"))) ∷  -- prefix-138
    (codes ".RECIPEPREFIX = f\nfoo:\nfx\n.RECIPEPREFIX=\nXy", RenameTarget (codes "a") (codes "q"), NotMade 0 NoSuch) ∷  -- prefix-139
    (codes ".RECIPEPREFIX = t\nX=1\na: f\na:\n", AddLine (BeforeRule None (codes "-include2")) (NewRule (codes " t1") Single (codes "c")), NotMade 1 NoSuch) ∷  -- prefix-140
    (codes ".RECIPEPREFIX = e\nb a: X = 1\nez\nf: a\n", AddLine (BeforeRule (Some 1) (codes "f")) (NewRule (codes " 1") Single (codes "c")), Accepted 1 0 (span 32 32 (codes "1: c\n") ∷ []) (Becomes (codes ".RECIPEPREFIX = e\nb a: X = 1\nez\n1: c\nf: a\n"))) ∷  -- prefix-141
    (codes ".RECIPEPREFIX = f\nifdef A\na: f\na:\n", AddLine Bottom (NewAssign (codes "a.b") Conditional []), Accepted 1 0 (span 34 34 (codes "a.b ?=\n") ∷ []) (Becomes (codes ".RECIPEPREFIX = f\nifdef A\na: f\na:\na.b ?=\n"))) ∷  -- prefix-142
    (codes ".RECIPEPREFIX = %\nX=1\n%z\na:\n", RenameTarget (codes "a") (codes "\\t"), NotMade 1 (BadArgument field.New)) ∷  -- prefix-143
    (codes ".RECIPEPREFIX = %\ndefine D\nendef\n%z\n%y\n", AddLine Bottom (NewAssign (codes "1") Conditional (codes "1")), Accepted 1 0 (span 39 39 (codes "1 ?= 1\n") ∷ []) (Becomes (codes ".RECIPEPREFIX = %\ndefine D\nendef\n%z\n%y\n1 ?= 1\n"))) ∷  -- prefix-144
    (codes ".RECIPEPREFIX = >\nifdef A\n>z\nX=2\n", RenameTarget (codes "a") (codes "q1"), NotMade 0 NoSuch) ∷  -- prefix-145
    (codes ".RECIPEPREFIX = .\nb a: X = 1\nf: a\n", RenameTarget (codes "b") (codes ">x"), Accepted 1 1 (span 18 19 (codes ">x") ∷ []) (Becomes (codes ".RECIPEPREFIX = .\n>x a: X = 1\nf: a\n"))) ∷  -- prefix-146
    (codes ".RECIPEPREFIX = a\na: b\n.RECIPEPREFIX=\nay\n", AddLine Bottom (NewRule (codes "x") Single (codes "c")), Accepted 1 0 (span 41 41 (codes "x: c\n") ∷ []) (Becomes (codes ".RECIPEPREFIX = a\na: b\n.RECIPEPREFIX=\nay\nx: c\n"))) ∷  -- prefix-147
    (codes ".RECIPEPREFIX = %\na: b\nX=2\n", RenameTarget (codes "a") (codes "-x"), Accepted 1 1 (span 18 19 (codes "-x") ∷ []) (Becomes (codes ".RECIPEPREFIX = %\n-x: b\nX=2\n"))) ∷  -- prefix-148
    (codes ".RECIPEPREFIX = f\nb a: X = 1\nfz\n%y", RenameTarget (codes "b") (codes "q"), Accepted 1 1 (span 18 19 (codes "q") ∷ []) (Becomes (codes ".RECIPEPREFIX = f\nq a: X = 1\nfz\n%y"))) ∷  -- prefix-149
    (codes ".RECIPEPREFIX = b\nfoo:\nbx\n.RECIPEPREFIX=a\nX=2\n", AddLine (BeforeVar (Some 0) (codes "X")) (NewAssign (codes "q1") Recursive (codes "1")), NotMade 1 NoSuch) ∷  -- prefix-150
    []

answers_3 : map (λ row. account row.0 row.1) rows_3 ≡ map (λ row. row.2) rows_3
answers_3 = refl

abbrev rows_4 : List (List ℕ × Edit × Account)
rows_4 =
    (codes ".RECIPEPREFIX = b\nifdef A\nbz\n", AddLine Bottom (NewRule (codes "1 a") Single (codes "c")), Accepted 1 0 (span 29 29 (codes "1 a: c\n") ∷ []) (Becomes (codes ".RECIPEPREFIX = b\nifdef A\nbz\n1 a: c\n"))) ∷  -- prefix-151
    (codes ".RECIPEPREFIX = t\nfoo:\ntx\na: f\na:\n", RenameTarget (codes "f") (codes "a"), NotMade 1 NoSuch) ∷  -- prefix-152
    (codes ".RECIPEPREFIX = e\na: b\nez\nXy", ChangeValue (One None) (codes ".RECIPEPREFIX") (edits.Append []), NotMade 1 (BadArgument field.Value)) ∷  -- prefix-153
    (codes ".RECIPEPREFIX = f\nifdef A\nX=2\n", AddLine (BeforeRule None (codes "b")) (NewAssign (codes "f1") Immediate (codes "1")), NotMade 1 NoSuch) ∷  -- prefix-154
    (codes ".RECIPEPREFIX = a\nX=1\na: f\na:\n", AddLine (AfterVar None (codes "X")) (NewRule (codes " qx") Single (codes "c")), NotMade 1 Leans) ∷  -- prefix-155
    (codes ".RECIPEPREFIX = >\ndefine D\nendef\n", AddLine Bottom (NewAssign (codes ">1") PosixSimple (codes "1")), NotMade 1 (BadArgument field.Name)) ∷  -- prefix-156
    (codes ".RECIPEPREFIX = b\nX=1\n.RECIPEPREFIX=\nf: a\n", RenameTarget (codes "a") (codes "b"), NotMade 1 NoSuch) ∷  -- prefix-157
    (codes ".RECIPEPREFIX = e\nfoo:\nex\na:\n", ChangePrereqs None (codes "foo") (AddPrereq false (codes "%.c")), Accepted 1 1 (span 22 22 (codes " %.c") ∷ []) (Becomes (codes ".RECIPEPREFIX = e\nfoo: %.c\nex\na:\n"))) ∷  -- prefix-158
    (codes ".RECIPEPREFIX = >\nfoo:\n>x\n.RECIPEPREFIX=-\n>y\n", AddLine (BeforeRule None (codes "foo")) (NewRule (codes " 1") Single (codes "c")), Accepted 1 0 (span 18 18 (codes "1: c\n") ∷ []) (Becomes (codes ".RECIPEPREFIX = >\n1: c\nfoo:\n>x\n.RECIPEPREFIX=-\n>y\n"))) ∷  -- prefix-159
    (codes ".RECIPEPREFIX = b\nfoo:\nbx\n", ChangePrereqs None (codes "foo") (AddPrereq true (codes "$(s\\)")), Accepted 1 1 (span 22 22 (codes " | $(s\\)") ∷ []) (Becomes (codes ".RECIPEPREFIX = b\nfoo: | $(s\\)\nbx\n"))) ∷  -- prefix-160
    (codes ".RECIPEPREFIX = a\n a: b a\n.RECIPEPREFIX=.\nX=2\n", AddLine (BeforeRule None (codes "a")) (NewAssign (codes ".1") Conditional (codes "1")), Accepted 1 0 (span 18 18 (codes ".1 ?= 1\n") ∷ []) (Becomes (codes ".RECIPEPREFIX = a\n.1 ?= 1\n a: b a\n.RECIPEPREFIX=.\nX=2\n"))) ∷  -- prefix-161
    (codes ".RECIPEPREFIX = f\na: b\n", RemoveLines (OfRecipe None (codes "a") (ByNumber 0)), NotMade 0 Absent) ∷  -- prefix-162
    (codes ".RECIPEPREFIX = b\nX=1\n", RenameTarget (codes "a") (codes "e"), NotMade 0 NoSuch) ∷  -- prefix-163
    (codes ".RECIPEPREFIX = b\nb a: X = 1\nby\n", AddLine Bottom (NewRule (codes "q1 a") Single (codes "c")), Accepted 1 0 (span 32 32 (codes "q1 a: c\n") ∷ []) (Becomes (codes ".RECIPEPREFIX = b\nb a: X = 1\nby\nq1 a: c\n"))) ∷  -- prefix-164
    (codes ".RECIPEPREFIX = a\nb a: X = 1\n.RECIPEPREFIX=>\nf: a\n", AddLine (BeforeRule None (codes "f")) (NewRule (codes " a1") Single (codes "c")), Accepted 1 0 (span 45 45 (codes "a1: c\n") ∷ []) (Becomes (codes ".RECIPEPREFIX = a\nb a: X = 1\n.RECIPEPREFIX=>\na1: c\nf: a\n"))) ∷  -- prefix-165
    (codes ".RECIPEPREFIX = f\n a: b a\nX=2\n", RenameTarget (codes "a") (codes "a"), NotMade 1 Taken) ∷  -- prefix-166
    (codes ".RECIPEPREFIX = .\nfoo:\n.x\n.RECIPEPREFIX=\nX=2\n", AddLine (BeforeRule (Some 4294967295) (codes "foo")) (NewRule (codes "%") Single (codes "c")), NotMade 1 NoSuch) ∷  -- prefix-167
    (codes ".RECIPEPREFIX = .\na: b\n.RECIPEPREFIX=t\na:\n", AddLine (BeforeRule (Some 2) (codes "a")) (NewAssign (codes "-x_9") Shell []), Accepted 1 0 (span 39 39 (codes "-x_9 !=\n") ∷ []) (Becomes (codes ".RECIPEPREFIX = .\na: b\n.RECIPEPREFIX=t\n-x_9 !=\na:\n"))) ∷  -- prefix-168
    (codes ".RECIPEPREFIX = .\n a: b a\na: f\n.y\n", RenameTarget (codes "a") (codes "tx"), Accepted 2 2 (span 19 20 (codes "tx") ∷ span 24 25 (codes "tx") ∷ span 26 27 (codes "tx") ∷ []) (Becomes (codes ".RECIPEPREFIX = .\n tx: b tx\ntx: f\n.y\n"))) ∷  -- prefix-169
    (codes ".RECIPEPREFIX = f\nb a: X = 1\n", AddLine Bottom (NewRule (codes "a1") Single (codes "c")), Accepted 1 0 (span 29 29 (codes "a1: c\n") ∷ []) (Becomes (codes ".RECIPEPREFIX = f\nb a: X = 1\na1: c\n"))) ∷  -- prefix-170
    (codes ".RECIPEPREFIX = %\ndefine D\nendef\n", RenameTarget (codes "a") (codes "fx"), NotMade 0 NoSuch) ∷  -- prefix-171
    (codes ".RECIPEPREFIX = X\na: b\n.RECIPEPREFIX=\n%y", RenameTarget (codes "b") (codes "x"), NotMade 1 NoSuch) ∷  -- prefix-172
    (codes ".RECIPEPREFIX = >\na: b\na: f\nf: a\n", RenameTarget (codes "b") (codes "q"), NotMade 1 NoSuch) ∷  -- prefix-173
    (codes ".RECIPEPREFIX = e\nX=1\na: f\ney\n", AddLine (AfterVar None (codes "X")) (NewAssign (codes "\\tx") Recursive (codes "1")), NotMade 1 (BadArgument field.Name)) ∷  -- prefix-174
    (codes ".RECIPEPREFIX = %\nfoo:\n%x\n%z\n", AddLine (BeforeVar (Some 2) (codes ".RECIPEPREFIX")) (NewAssign (codes "-x_9") PosixSimple (codes "$$")), NotMade 1 Reserved) ∷  -- prefix-175
    (codes ".RECIPEPREFIX = a\n a: b a\naz\nf: a\n", AddLine Bottom (NewAssign (codes "bx") Immediate (codes "1")), Accepted 1 0 (span 34 34 (codes "bx :::= 1\n") ∷ []) (Becomes (codes ".RECIPEPREFIX = a\n a: b a\naz\nf: a\nbx :::= 1\n"))) ∷  -- prefix-176
    (codes ".RECIPEPREFIX = e\nb a: X = 1\n.y", RemoveLines (OfAssign None (codes ".RECIPEPREFIX")), NotMade 0 Reserved) ∷  -- prefix-177
    (codes ".RECIPEPREFIX = t\nX=1\n-y", AddLine (AfterVar None (codes "X")) (NewAssign (codes "-x") Append (codes "1")), Accepted 1 0 (span 22 22 (codes "-x += 1\n") ∷ []) (Becomes (codes ".RECIPEPREFIX = t\nX=1\n-x += 1\n-y"))) ∷  -- prefix-178
    (codes ".RECIPEPREFIX = b\nfoo:\nbx\na: f\nf: a\n", AddLine (BeforeRule None (codes "t")) (NewAssign (codes "-x") Immediate (codes "1")), NotMade 1 NoSuch) ∷  -- prefix-179
    (codes ".RECIPEPREFIX = >\nifdef A\n>z\na:\n", RemoveLines (OfRule (Some 2) (codes "a")), NotMade 0 NoSuch) ∷  -- prefix-180
    (codes ".RECIPEPREFIX = t\na: b\n.RECIPEPREFIX=-\n", AddLine Bottom (NewRule (codes "-x") Single (codes "c")), NotMade 1 RecipePrefix) ∷  -- prefix-181
    (codes ".RECIPEPREFIX = -\n a: b a\n.y", AddLine Bottom (NewRule (codes ".1") Single (codes "c")), Accepted 1 0 (span 28 28 (codes "\n.1: c\n") ∷ []) (Becomes (codes ".RECIPEPREFIX = -\n a: b a\n.y\n.1: c\n"))) ∷  -- prefix-182
    (codes ".RECIPEPREFIX = >\ndefine D\nendef\na: f\n-y", RenameTarget (codes "a") (codes "1"), Accepted 1 1 (span 33 34 (codes "1") ∷ []) (Becomes (codes ".RECIPEPREFIX = >\ndefine D\nendef\n1: f\n-y"))) ∷  -- prefix-183
    (codes ".RECIPEPREFIX = b\nifdef A\nby\n", RenameTarget (codes "a") (codes "b1"), NotMade 0 NoSuch) ∷  -- prefix-184
    (codes ".RECIPEPREFIX = X\ndefine D\nendef\nXy\n", ChangeValue (One None) (codes ".RECIPEPREFIX") (edits.Set (codes "c")), NotMade 1 Reserved) ∷  -- prefix-185
    (codes ".RECIPEPREFIX = >\nX=1\n>z\nXy", AddLine (BeforeVar (Some 2) (codes "X")) (NewRule (codes "X1 a") Single (codes "c")), NotMade 1 NoSuch) ∷  -- prefix-186
    (codes ".RECIPEPREFIX = .\nfoo:\n.x\n", AddLine Bottom (NewAssign (codes ".") Recursive (codes "1")), NotMade 1 RecipePrefix) ∷  -- prefix-187
    (codes ".RECIPEPREFIX = a\n a: b a\n.RECIPEPREFIX=\n>y", AddLine (BeforeRule None (codes "a")) (NewAssign (codes "a1") Immediate (codes "1")), NotMade 1 RecipePrefix) ∷  -- prefix-188
    (codes ".RECIPEPREFIX = .\nX=1\na: f\nf: a\n", RemoveLines (OfRule None (codes "a")), Accepted 0 1 (span 22 27 [] ∷ []) (Becomes (codes ".RECIPEPREFIX = .\nX=1\nf: a\n"))) ∷  -- prefix-189
    (codes ".RECIPEPREFIX = %\na: b\n%z\n%y\n", AddLine (BeforeRule None (codes "a")) (NewRule (codes "q1 a") Single (codes "c")), Accepted 1 0 (span 18 18 (codes "q1 a: c\n") ∷ []) (Becomes (codes ".RECIPEPREFIX = %\nq1 a: c\na: b\n%z\n%y\n"))) ∷  -- prefix-190
    (codes ".RECIPEPREFIX = a\nfoo:\nax\n.RECIPEPREFIX=\nf: a\n", RenameTarget (codes "a") (codes "t"), NotMade 1 NoSuch) ∷  -- prefix-191
    (codes ".RECIPEPREFIX = >\nifdef A\na: f\na:\n", AddLine (BeforeRule (Some 2) (codes "a")) (NewAssign (codes "t1") Append (codes "1")), Accepted 1 0 (span 31 31 (codes "t1 += 1\n") ∷ []) (Becomes (codes ".RECIPEPREFIX = >\nifdef A\na: f\nt1 += 1\na:\n"))) ∷  -- prefix-192
    (codes ".RECIPEPREFIX = e\ndefine D\nendef\n.RECIPEPREFIX=\n", ChangeValue (One (Some 0)) (codes ".RECIPEPREFIX") (edits.Append []), NotMade 1 (BadArgument field.Value)) ∷  -- prefix-193
    (codes ".RECIPEPREFIX = e\nX=1\nez\nX=2\n", ChangeValue (One (Some 1)) (codes "X") (edits.Append (codes "$$")), Accepted 1 1 (span 21 21 (codes " $$") ∷ []) (Becomes (codes ".RECIPEPREFIX = e\nX=1 $$\nez\nX=2\n"))) ∷  -- prefix-194
    (codes ".RECIPEPREFIX = %\na: b\n%y\n", AddLine Bottom (NewAssign (codes "\\tx") Shell (codes "1")), NotMade 1 (BadArgument field.Name)) ∷  -- prefix-195
    (codes ".RECIPEPREFIX = e\nfoo:\nex\na: f\n", AddLine Bottom (NewRule (codes " b1") Single (codes "c")), Accepted 1 0 (span 31 31 (codes "b1: c\n") ∷ []) (Becomes (codes ".RECIPEPREFIX = e\nfoo:\nex\na: f\nb1: c\n"))) ∷  -- prefix-196
    (codes ".RECIPEPREFIX = >\nb a: X = 1\n>z\n>y\n", RenameTarget (codes "a") (codes "q1"), Accepted 1 1 (span 20 21 (codes "q1") ∷ []) (Becomes (codes ".RECIPEPREFIX = >\nb q1: X = 1\n>z\n>y\n"))) ∷  -- prefix-197
    (codes ".RECIPEPREFIX = e\ndefine D\nendef\n.RECIPEPREFIX=t\n", AddLine Bottom (NewRule (codes "qx a") Single (codes "c")), NotMade 1 OpenDefine) ∷  -- prefix-198
    (codes ".RECIPEPREFIX = f\n a: b a\nfz\n", ChangeValue (One (Some 2)) (codes ".RECIPEPREFIX") (edits.Append []), NotMade 1 (BadArgument field.Value)) ∷  -- prefix-199
    (codes ".RECIPEPREFIX = b\nX=1\na: f\nX=2\n", RenameTarget (codes "a") (codes "b"), NotMade 1 RecipePrefix) ∷  -- prefix-200
    []

answers_4 : map (λ row. account row.0 row.1) rows_4 ≡ map (λ row. row.2) rows_4
answers_4 = refl

abbrev rows_5 : List (List ℕ × Edit × Account)
rows_5 =
    (codes ".RECIPEPREFIX = b\nb a: X = 1\n.RECIPEPREFIX=%\nby\n", AddLine Bottom (NewAssign (codes "x") Immediate (codes "1")), Accepted 1 0 (span 48 48 (codes "x :::= 1\n") ∷ []) (Becomes (codes ".RECIPEPREFIX = b\nb a: X = 1\n.RECIPEPREFIX=%\nby\nx :::= 1\n"))) ∷  -- prefix-201
    (codes ".RECIPEPREFIX = -\na: b\n.RECIPEPREFIX=f\n-y\n", AddLine Bottom (NewAssign (codes "-1") Simple (codes "1")), Accepted 1 0 (span 42 42 (codes "-1 := 1\n") ∷ []) (Becomes (codes ".RECIPEPREFIX = -\na: b\n.RECIPEPREFIX=f\n-y\n-1 := 1\n"))) ∷  -- prefix-202
    (codes ".RECIPEPREFIX = b\na: b\na: f\nf: a\n", AddLine Bottom (NewAssign (codes "t") Recursive (codes "1")), Accepted 1 0 (span 33 33 (codes "t = 1\n") ∷ []) (Becomes (codes ".RECIPEPREFIX = b\na: b\na: f\nf: a\nt = 1\n"))) ∷  -- prefix-203
    (codes ".RECIPEPREFIX = f\nfoo:\nfx\na:\n", AddLine (BeforeRule None (codes "a")) (NewAssign (codes "b1") Append (codes "1")), Accepted 1 0 (span 26 26 (codes "b1 += 1\n") ∷ []) (Becomes (codes ".RECIPEPREFIX = f\nfoo:\nfx\nb1 += 1\na:\n"))) ∷  -- prefix-204
    (codes ".RECIPEPREFIX = X\n a: b a\nf: a\n", AddLine (BeforeRule None (codes "a")) (NewRule (codes " t") Single (codes "c")), Accepted 1 0 (span 18 18 (codes "t: c\n") ∷ []) (Becomes (codes ".RECIPEPREFIX = X\nt: c\n a: b a\nf: a\n"))) ∷  -- prefix-205
    (codes ".RECIPEPREFIX = b\n a: b a\n.RECIPEPREFIX=\nty", AddLine (BeforeRule None (codes "a")) (NewRule (codes "t1") Single (codes "c")), Accepted 1 0 (span 18 18 (codes "t1: c\n") ∷ []) (Becomes (codes ".RECIPEPREFIX = b\nt1: c\n a: b a\n.RECIPEPREFIX=\nty"))) ∷  -- prefix-206
    (codes ".RECIPEPREFIX = .\n a: b a\n.RECIPEPREFIX=\n.y", AddLine (BeforeVar None (codes ".RECIPEPREFIX")) (NewRule (codes "%.o") Single (codes "x.o")), NotMade 1 Reserved) ∷  -- prefix-207
    (codes ".RECIPEPREFIX = .\nifdef A\n.y", RenameTarget (codes "a") (codes "."), NotMade 0 NoSuch) ∷  -- prefix-208
    (codes ".RECIPEPREFIX = >\n a: b a\nf: a\n", RenameTarget (codes "a") (codes ">x"), Accepted 2 2 (span 19 20 (codes ">x") ∷ span 24 25 (codes ">x") ∷ span 29 30 (codes ">x") ∷ []) (Becomes (codes ".RECIPEPREFIX = >\n >x: b >x\nf: >x\n"))) ∷  -- prefix-209
    (codes ".RECIPEPREFIX = X\nX=1\nby", AddLine (BeforeVar None (codes "X")) (NewRule (codes "1") Single (codes "c")), NotMade 1 Leans) ∷  -- prefix-210
    (codes ".RECIPEPREFIX = a\ndefine D\nendef\na: f\nay\n", RenameTarget (codes "a") (codes "b"), NotMade 0 NoSuch) ∷  -- prefix-211
    (codes ".RECIPEPREFIX = .\nifdef A\n.RECIPEPREFIX=\\t\n.y\n", RenameTarget (codes "a") (codes "1"), NotMade 0 RecipePrefix) ∷  -- prefix-212
    (codes ".RECIPEPREFIX = f\ndefine D\nendef\na: f\nX=2\n", AddLine (BeforeRule None (codes "a")) (NewRule (codes " f1") Single (codes "c")), NotMade 1 RecipePrefix) ∷  -- prefix-213
    (codes ".RECIPEPREFIX = f\nX=1\n.RECIPEPREFIX=\nX=2\n", AddLine Bottom (NewRule (codes " f1") Single (codes "c")), Accepted 1 0 (span 41 41 (codes "f1: c\n") ∷ []) (Becomes (codes ".RECIPEPREFIX = f\nX=1\n.RECIPEPREFIX=\nX=2\nf1: c\n"))) ∷  -- prefix-214
    (codes ".RECIPEPREFIX = X\nb a: X = 1\n", AddLine Bottom (NewRule (codes "Xx") Single (codes "c")), NotMade 1 RecipePrefix) ∷  -- prefix-215
    (codes ".RECIPEPREFIX = >\nb a: X = 1\n.RECIPEPREFIX=\n\\ty", AddLine Bottom (NewRule (codes ">1") Single (codes "c")), Accepted 1 0 (span 47 47 (codes "\n>1: c\n") ∷ []) (Becomes (codes ".RECIPEPREFIX = >\nb a: X = 1\n.RECIPEPREFIX=\n\\ty\n>1: c\n"))) ∷  -- prefix-216
    (codes ".RECIPEPREFIX = e\nb a: X = 1\n.RECIPEPREFIX=\nf: a\n", RenameTarget (codes "f") (codes "e"), Accepted 1 1 (span 44 45 (codes "e") ∷ []) (Becomes (codes ".RECIPEPREFIX = e\nb a: X = 1\n.RECIPEPREFIX=\ne: a\n"))) ∷  -- prefix-217
    (codes ".RECIPEPREFIX = a\ndefine D\nendef\na: f\n", AddLine Bottom (NewAssign (codes "q1") Recursive (codes "1")), Accepted 1 0 (span 38 38 (codes "q1 = 1\n") ∷ []) (Becomes (codes ".RECIPEPREFIX = a\ndefine D\nendef\na: f\nq1 = 1\n"))) ∷  -- prefix-218
    (codes ".RECIPEPREFIX = .\nfoo:\n.x\n.z\n", ChangePrereqs None (codes "foo") (RemovePrereq (codes "$(a b)")), NotMade 1 Absent) ∷  -- prefix-219
    (codes ".RECIPEPREFIX = a\nX=1\n.RECIPEPREFIX=%\n%y", AddLine (AfterVar None (codes "X")) (NewAssign (codes "a1") PosixSimple (codes "1")), NotMade 1 RecipePrefix) ∷  -- prefix-220
    (codes "a: b; i\n\tx\n\tx\n# c\n", RemoveLines (OfRule (Some 2) (codes "a")), NotMade 0 NoSuch) ∷  -- rule-001
    (codes "ifdef Z\na: b; i\nX=1\n\tx\nb:\n\t# c\n\tx", RemoveLines (OfRule (Some 2) (codes "a")), NotMade 0 NoSuch) ∷  -- rule-002
    (codes "a: b\nb:\nifdef A\n\ty\\\n\tz\n# c\n\ty\\\n\tz\n\ty\\\n\tz\r\n", AddRecipe (Some 1) (codes "a") Last (codes "w"), Accepted 1 0 (span 5 5 (codes "\tw\n") ∷ []) (Becomes (codes "a: b\n\tw\nb:\nifdef A\n\ty\\\n\tz\n# c\n\ty\\\n\tz\n\ty\\\n\tz\r\n"))) ∷  -- rule-003
    (codes "ifdef Z\nelse\na:\n\n\n\ty\\\n\tz", SetRecipe (Some 1) (codes "a") (ByNumber 2) (codes "w"), NotMade 1 Absent) ∷  -- rule-004
    (codes "ifdef Z\na: b\nelse\n\tx\n\tx\n\tx\nendif\r\n", RemoveLines (OfAssign None (codes "X")), NotMade 0 NoSuch) ∷  -- rule-005
    (codes "ifdef Z\na: b\nendif\nifdef A\nifdef A\nendif\n", AddLine (BeforeVar (Some 1) (codes "X")) (NewAssign (codes "N") Conditional []), NotMade 1 NoSuch) ∷  -- rule-006
    (codes "a:\n\tx", AddLine (BeforeVar (Some 2) (codes "X")) (NewAssign (codes "N") Conditional []), NotMade 1 NoSuch) ∷  -- rule-007
    (codes "ifdef Z\na: b; i\nifdef A", AddLine (BeforeVar None (codes "X")) (NewAssign (codes "N") Conditional []), NotMade 1 NoSuch) ∷  -- rule-008
    (codes "ifdef Z\na: b; i\n\t# c\nelse\nendif\nX=1\n", RemoveLines (OfRule None (codes "a")), Accepted 0 2 (span 8 21 [] ∷ []) (Becomes (codes "ifdef Z\nelse\nendif\nX=1\n"))) ∷  -- rule-009
    (codes "ifdef Z\na: b; i\n\ty\\\n\tz\nendif\n\ty\\\n\tz\n\tx\n\ty\\\n\tz\n\tx", RemoveLines (OfRule None (codes "a")), NotMade 0 Straddles) ∷  -- rule-010
    (codes "ifdef Z\nelse\na:\nendif\nendif\n\ty\\\n\tz\n\tx", RemoveLines (OfRule (Some 2) (codes "a")), NotMade 0 NoSuch) ∷  -- rule-011
    (codes "ifdef Z\nelse\na:\n\tx\n\ty\\\n\tz\n\tx\r\n", RemoveLines (OfAssign (Some 2) (codes "X")), NotMade 0 NoSuch) ∷  -- rule-012
    (codes "ifdef Z\nelse\na:\n\t# c\n", RemoveLines (OfRecipe None (codes "a") (ByNumber 2)), NotMade 0 Absent) ∷  -- rule-013
    (codes "a: b\nendif\nelse\n", SetRecipe None (codes "a") (ByNumber 0) [], NotMade 1 Absent) ∷  -- rule-014
    (codes "a: b; i\nb:\nX=1\n\tx\nelse\n", SetRecipe (Some 1) (codes "a") (ByNumber 2) (codes "w"), NotMade 1 Absent) ∷  -- rule-015
    (codes "ifdef Z\nelse\na:\n\tx\nendif\r\n", RemoveLines (OfRule (Some 1) (codes "a")), Accepted 0 2 (span 13 19 [] ∷ []) (Becomes (codes "ifdef Z\nelse\nendif\r\n"))) ∷  -- rule-016
    (codes "ifdef Z\nelse\na: b\na:\\\n c\n", AddLine (BeforeVar (Some 2) (codes "X")) (NewAssign (codes "N") Conditional []), NotMade 1 NoSuch) ∷  -- rule-017
    (codes "ifdef Z\nelse\na: b\n# c\nifdef A\nelse\n", AddRecipe None (codes "a") Last (codes "w"), Accepted 1 0 (span 18 18 (codes "\tw\n") ∷ []) (Becomes (codes "ifdef Z\nelse\na: b\n\tw\n# c\nifdef A\nelse\n"))) ∷  -- rule-018
    (codes "a: b; i\nifdef A\n\t# c\nelse\nendif\n\tx\nifdef A\n", RemoveLines (OfRecipe None (codes "a") (ByNumber 2)), Accepted 0 1 (span 32 35 [] ∷ []) (Becomes (codes "a: b; i\nifdef A\n\t# c\nelse\nendif\nifdef A\n"))) ∷  -- rule-019
    (codes "ifdef Z\na: b; i\n# c\n\n# c\n\t# c\r\n", RemoveLines (OfAssign None (codes "X")), NotMade 0 NoSuch) ∷  -- rule-020
    (codes "ifdef Z\nelse\na: b; i\n\tx\n\tx\na:\\\n c\nifdef A\nendif\n", AddLine (BeforeVar (Some 2) (codes "X")) (NewAssign (codes "N") Conditional []), NotMade 1 NoSuch) ∷  -- rule-021
    (codes "ifdef Z\nelse\na:\n\tx\n# c\r\n", AddLine (BeforeVar None (codes "X")) (NewAssign (codes "N") Conditional []), NotMade 1 NoSuch) ∷  -- rule-022
    (codes "ifdef Z\na:\nendif\n\tx", AddLine (AfterVar (Some 1) (codes "X")) (NewRule (codes "d") Single (codes "e")), NotMade 1 NoSuch) ∷  -- rule-023
    (codes "ifdef Z\na: b\nendif\n\tx\nX=1\n\tx\n\t# c\n$(u)\r\n", AddLine (AfterVar (Some 2) (codes "X")) (NewRule (codes "d") Single (codes "e")), NotMade 1 NoSuch) ∷  -- rule-024
    (codes "ifdef Z\na: b\nendif\n\tx\n\nendif\n", AddLine (BeforeVar None (codes "X")) (NewAssign (codes "N") Conditional []), NotMade 1 NoSuch) ∷  -- rule-025
    (codes "ifdef Z\na: b\n\tx\n", RemoveLines (OfRule None (codes "a")), Accepted 0 2 (span 8 16 [] ∷ []) (Becomes (codes "ifdef Z\n"))) ∷  -- rule-026
    (codes "ifdef Z\na:\n\n", SetRecipe (Some 1) (codes "a") (ByNumber 0) [], NotMade 1 Absent) ∷  -- rule-027
    (codes "a: b; i\n\ty\\\n\tz\nendif\n", AddLine (BeforeVar (Some 2) (codes "X")) (NewAssign (codes "N") Conditional []), NotMade 1 NoSuch) ∷  -- rule-028
    (codes "a: b\nendif\nelse\n\tx\n\nifdef A\r\n", RemoveLines (OfRule (Some 2) (codes "a")), NotMade 0 NoSuch) ∷  -- rule-029
    (codes "a: b\n\tx\n", RemoveLines (OfAssign None (codes "X")), NotMade 0 NoSuch) ∷  -- rule-030
    []

answers_5 : map (λ row. account row.0 row.1) rows_5 ≡ map (λ row. row.2) rows_5
answers_5 = refl

abbrev rows_6 : List (List ℕ × Edit × Account)
rows_6 =
    (codes "ifdef Z\nelse\na: b\n# c\nendif", RemoveLines (OfRule None (codes "a")), Accepted 0 1 (span 13 18 [] ∷ []) (Becomes (codes "ifdef Z\nelse\n# c\nendif"))) ∷  -- rule-031
    (codes "a:\nifdef A\nifdef A\n\ty\\\n\tz\n\tx\n\tx\n\tx\r\n", AddLine (BeforeRule (Some 2) (codes "a")) (NewRule (codes "d") Double []), NotMade 1 NoSuch) ∷  -- rule-032
    (codes "a: b\nX=1\nendif", AddLine (BeforeVar (Some 2) (codes "X")) (NewAssign (codes "N") Conditional []), NotMade 1 NoSuch) ∷  -- rule-033
    (codes "a:\n\t# c\nelse\r\n", AddRecipe (Some 1) (codes "a") Last (codes "w"), Accepted 1 0 (span 8 8 (codes "\tw\n") ∷ []) (Becomes (codes "a:\n\t# c\n\tw\nelse\r\n"))) ∷  -- rule-034
    (codes "a: b; i\n$(u)\n", RemoveLines (OfAssign None (codes "X")), NotMade 0 NoSuch) ∷  -- rule-035
    (codes "ifdef Z\nelse\na:\n\ty\\\n\tz\r\n", AddLine (AfterVar (Some 2) (codes "X")) (NewRule (codes "d") Single (codes "e")), NotMade 1 NoSuch) ∷  -- rule-036
    (codes "ifdef Z\na:\nendif\nifdef A\nendif\n\ty\\\n\tz\nX=1\nelse\n", RemoveLines (OfRecipe None (codes "a") (ByNumber 3)), NotMade 0 Absent) ∷  -- rule-037
    (codes "a: b; i\n\ty\\\n\tz\nendif\n\t# c\nelse\n\tx\n", RemoveLines (OfRule None (codes "a")), Accepted 0 2 (span 0 15 [] ∷ []) (Becomes (codes "endif\n\t# c\nelse\n\tx\n"))) ∷  -- rule-038
    (codes "ifdef Z\na: b\n\nendif\nb:", RemoveLines (OfAssign None (codes "X")), NotMade 0 NoSuch) ∷  -- rule-039
    (codes "ifdef Z\na: b; i\n\t# c\nendif\n# c", RemoveLines (OfRecipe None (codes "a") (ByNumber 2)), NotMade 0 Absent) ∷  -- rule-040
    (codes "a: b; i\n\n\tx\n\ty\\\n\tz\nelse\n# c\r\n", AddLine (AfterVar (Some 2) (codes "X")) (NewRule (codes "d") Single (codes "e")), NotMade 1 NoSuch) ∷  -- rule-041
    (codes "a: b; i\nendif\nifdef A\nX=1\n\tx\nb:\n# c\r\n", SetRecipe (Some 2) (codes "a") (ByNumber 2) [], NotMade 1 NoSuch) ∷  -- rule-042
    (codes "a: b\nX=1\na:\\\n c\na:\\\n c\n\tx\n# c\nifdef A", AddLine (BeforeRule (Some 2) (codes "a")) (NewRule (codes "d") Double []), Accepted 1 0 (span 9 9 (codes "d::\n") ∷ []) (Becomes (codes "a: b\nX=1\nd::\na:\\\n c\na:\\\n c\n\tx\n# c\nifdef A"))) ∷  -- rule-043
    (codes "ifdef Z\nelse\na:\n# c\nendif\nendif\nX=1", SetRecipe (Some 2) (codes "a") (ByNumber 3) [], NotMade 1 NoSuch) ∷  -- rule-044
    (codes "ifdef Z\nelse\na: b\n\tx\n\ty\\\n\tz\n", SetRecipe (Some 1) (codes "a") (ByNumber 0) [], NotMade 1 Absent) ∷  -- rule-045
    (codes "ifdef Z\na: b; i\n\nifdef A\r\n", RemoveLines (OfRule (Some 1) (codes "a")), Accepted 0 1 (span 8 16 [] ∷ []) (Becomes (codes "ifdef Z\n\nifdef A\r\n"))) ∷  -- rule-046
    (codes "a: b\nelse\n\tx\n\t# c\nifdef A\n\ty\\\n\tz\nendif\r\n", AddLine (AfterVar (Some 2) (codes "X")) (NewRule (codes "d") Single (codes "e")), NotMade 1 NoSuch) ∷  -- rule-047
    (codes "a: b; i\n\tx\n\tx\nb:", RemoveLines (OfAssign None (codes "X")), NotMade 0 NoSuch) ∷  -- rule-048
    (codes "ifdef Z\na: b\n\tx\n# c\n\n\ty\\\n\tz\n\n\tx\n", RemoveLines (OfRecipe (Some 2) (codes "a") (ByNumber 1)), NotMade 0 NoSuch) ∷  -- rule-049
    (codes "ifdef Z\na: b\nifdef A\nifdef A\n", AddLine (BeforeVar None (codes "X")) (NewAssign (codes "N") Conditional []), NotMade 1 NoSuch) ∷  -- rule-050
    (codes "ifdef Z\na:\nelse\nendif\nifdef A\r\n", AddLine (BeforeRule None (codes "a")) (NewRule (codes "d") Double []), Accepted 1 0 (span 8 8 (codes "d::\n") ∷ []) (Becomes (codes "ifdef Z\nd::\na:\nelse\nendif\nifdef A\r\n"))) ∷  -- rule-051
    (codes "ifdef Z\na: b\n\t# c\nifdef A\n\nelse\n\t# c\n\ty\\\n\tz\r\n", SetRecipe None (codes "a") (ByNumber 1) (codes "w"), Accepted 1 1 (span 14 17 (codes "w") ∷ []) (Becomes (codes "ifdef Z\na: b\n\tw\nifdef A\n\nelse\n\t# c\n\ty\\\n\tz\r\n"))) ∷  -- rule-052
    (codes "ifdef Z\na: b\n# c\n\tx\nendif\na:\\\n c\r\n", RemoveLines (OfRecipe None (codes "a") (ByNumber 3)), NotMade 0 (Ambiguous 2)) ∷  -- rule-053
    (codes "ifdef Z\nelse\na: b; i\nendif\nendif\n", SetRecipe (Some 1) (codes "a") (ByNumber 3) [], NotMade 1 Absent) ∷  -- rule-054
    (codes "a: b; i\n\ty\\\n\tz\nX=1\nb:\n# c\nelse\n", SetRecipe (Some 2) (codes "a") (ByNumber 3) (codes "w"), NotMade 1 NoSuch) ∷  -- rule-055
    (codes "a:\n\tx\n\tx\n\tx\n", AddLine (AfterVar (Some 1) (codes "X")) (NewRule (codes "d") Single (codes "e")), NotMade 1 NoSuch) ∷  -- rule-056
    (codes "a: b; i\nendif\r\n", AddLine (BeforeRule (Some 2) (codes "a")) (NewRule (codes "d") Double []), NotMade 1 NoSuch) ∷  -- rule-057
    (codes "ifdef Z\nelse\na:\na:\\\n c\nifdef A\nendif\nifdef A\nendif\r\n", AddLine (AfterVar (Some 2) (codes "X")) (NewRule (codes "d") Single (codes "e")), NotMade 1 NoSuch) ∷  -- rule-058
    (codes "ifdef Z\na: b\n\t# c\nelse\nendif\nX=1\n\n\tx", AddLine (BeforeVar None (codes "X")) (NewAssign (codes "N") Conditional []), Accepted 1 0 (span 29 29 (codes "N ?=\n") ∷ []) (Becomes (codes "ifdef Z\na: b\n\t# c\nelse\nendif\nN ?=\nX=1\n\n\tx"))) ∷  -- rule-059
    (codes "ifdef Z\na:\n\ty\\\n\tz\n", AddLine (BeforeVar (Some 2) (codes "X")) (NewAssign (codes "N") Conditional []), NotMade 1 NoSuch) ∷  -- rule-060
    (codes "a: b; i\n\tx\r\n", AddLine (BeforeVar None (codes "X")) (NewAssign (codes "N") Conditional []), NotMade 1 NoSuch) ∷  -- rule-061
    (codes "ifdef Z\na:\n\tx\n\tx\n\ty\\\n\tz\nendif\n\t# c\n\ty\\\n\tz", AddLine (BeforeRule None (codes "a")) (NewRule (codes "d") Double []), Accepted 1 0 (span 8 8 (codes "d::\n") ∷ []) (Becomes (codes "ifdef Z\nd::\na:\n\tx\n\tx\n\ty\\\n\tz\nendif\n\t# c\n\ty\\\n\tz"))) ∷  -- rule-062
    (codes "ifdef Z\nelse\na: b; i\n\tx\nifdef A\nifdef A\n\tx\n", AddRecipe None (codes "a") Last (codes "w"), NotMade 1 Straddles) ∷  -- rule-063
    (codes "ifdef Z\na: b\nX=1\nelse\n# c\nifdef A\r\n", RemoveLines (OfRule (Some 1) (codes "a")), Accepted 0 1 (span 8 13 [] ∷ []) (Becomes (codes "ifdef Z\nX=1\nelse\n# c\nifdef A\r\n"))) ∷  -- rule-064
    (codes "a: b; i\n$(u)\n# c\n\ty\\\n\tz", AddLine (AfterVar (Some 2) (codes "X")) (NewRule (codes "d") Single (codes "e")), NotMade 1 NoSuch) ∷  -- rule-065
    (codes "a: b\n\tx\nX=1\nb:\r\n", RemoveLines (OfRule (Some 1) (codes "a")), Accepted 0 2 (span 0 8 [] ∷ []) (Becomes (codes "X=1\nb:\r\n"))) ∷  -- rule-066
    (codes "a: b; i\nelse\n", AddLine (BeforeRule None (codes "a")) (NewRule (codes "d") Double []), Accepted 1 0 (span 0 0 (codes "d::\n") ∷ []) (Becomes (codes "d::\na: b; i\nelse\n"))) ∷  -- rule-067
    (codes "ifdef Z\nelse\na: b\nifdef A\n\ty\\\n\tz\n$(u)\r\n", SetRecipe (Some 2) (codes "a") (ByNumber 3) (codes "w"), NotMade 1 NoSuch) ∷  -- rule-068
    (codes "ifdef Z\nelse\na: b; i\n\tx\n\tx\n\nendif\r\n", RemoveLines (OfRule None (codes "a")), Accepted 0 3 (span 13 27 [] ∷ []) (Becomes (codes "ifdef Z\nelse\n\nendif\r\n"))) ∷  -- rule-069
    (codes "ifdef Z\na:\n\tx\n\tx\n\tx\nelse\nifdef A\r\n", RemoveLines (OfRule (Some 2) (codes "a")), NotMade 0 NoSuch) ∷  -- rule-070
    (codes "ifdef Z\nelse\na: b; i\n\tx\nX=1\n\n\tx", RemoveLines (OfRecipe None (codes "a") (ByNumber 2)), NotMade 0 Absent) ∷  -- rule-071
    (codes "ifdef Z\na:\n\tx\n\tx\n\t# c\n\tx\n\tx\n\ty\\\n\tz\n", AddLine (BeforeRule None (codes "a")) (NewRule (codes "d") Double []), Accepted 1 0 (span 8 8 (codes "d::\n") ∷ []) (Becomes (codes "ifdef Z\nd::\na:\n\tx\n\tx\n\t# c\n\tx\n\tx\n\ty\\\n\tz\n"))) ∷  -- rule-072
    (codes "a:\n\t# c\n# c\n", SetRecipe None (codes "a") (ByNumber 2) (codes "w"), NotMade 1 Absent) ∷  -- rule-073
    (codes "ifdef Z\nelse\na:\n\ty\\\n\tz\r\n", AddRecipe (Some 2) (codes "a") Last (codes "w"), NotMade 1 NoSuch) ∷  -- rule-074
    (codes "ifdef Z\na: b; i\n\nb:\nifdef A\n\t# c\nendif\r\n", RemoveLines (OfRule None (codes "a")), Accepted 0 1 (span 8 16 [] ∷ []) (Becomes (codes "ifdef Z\n\nb:\nifdef A\n\t# c\nendif\r\n"))) ∷  -- rule-075
    (codes "ifdef Z\na:\nendif\n\ty\\\n\tz\r\n", AddLine (AfterVar None (codes "X")) (NewRule (codes "d") Single (codes "e")), NotMade 1 NoSuch) ∷  -- rule-076
    (codes "ifdef Z\nelse\na: b\n# c\n# c\nendif\nb:", RemoveLines (OfAssign (Some 1) (codes "X")), NotMade 0 NoSuch) ∷  -- rule-077
    (codes "ifdef Z\na: b\n\tx\r\n", RemoveLines (OfAssign (Some 2) (codes "X")), NotMade 0 NoSuch) ∷  -- rule-078
    (codes "a: b; i\na:\\\n c\nifdef A\nendif\n\tx\r\n", AddRecipe None (codes "a") Last (codes "w"), NotMade 1 (Ambiguous 2)) ∷  -- rule-079
    (codes "ifdef Z\na:\n\ty\\\n\tz\nb:\n# c\n\tx\nendif\nX=1\r\n", AddLine (BeforeVar None (codes "X")) (NewAssign (codes "N") Conditional []), Accepted 1 0 (span 34 34 (codes "N ?=\n") ∷ []) (Becomes (codes "ifdef Z\na:\n\ty\\\n\tz\nb:\n# c\n\tx\nendif\nN ?=\nX=1\r\n"))) ∷  -- rule-080
    []

answers_6 : map (λ row. account row.0 row.1) rows_6 ≡ map (λ row. row.2) rows_6
answers_6 = refl

abbrev rows_7 : List (List ℕ × Edit × Account)
rows_7 =
    (codes "ifdef Z\na:\nendif\nelse\nelse\r\n", AddRecipe None (codes "a") Last (codes "w"), Accepted 1 0 (span 11 11 (codes "\tw\n") ∷ []) (Becomes (codes "ifdef Z\na:\n\tw\nendif\nelse\nelse\r\n"))) ∷  -- rule-081
    (codes "a:\n\tx\n\tx\nifdef A\n", AddLine (AfterVar (Some 2) (codes "X")) (NewRule (codes "d") Single (codes "e")), NotMade 1 NoSuch) ∷  -- rule-082
    (codes "ifdef Z\nelse\na:\n# c", AddLine (BeforeRule (Some 1) (codes "a")) (NewRule (codes "d") Double []), Accepted 1 0 (span 13 13 (codes "d::\n") ∷ []) (Becomes (codes "ifdef Z\nelse\nd::\na:\n# c"))) ∷  -- rule-083
    (codes "a: b; i\n\tx\n", AddLine (AfterVar (Some 2) (codes "X")) (NewRule (codes "d") Single (codes "e")), NotMade 1 NoSuch) ∷  -- rule-084
    (codes "ifdef Z\na: b; i\nifdef A\nelse\nelse\n\tx\n\ty\\\n\tz", RemoveLines (OfRecipe None (codes "a") (ByNumber 1)), Accepted 0 1 (span 34 37 [] ∷ []) (Becomes (codes "ifdef Z\na: b; i\nifdef A\nelse\nelse\n\ty\\\n\tz"))) ∷  -- rule-085
    (codes "a: b\nendif", AddLine (BeforeRule None (codes "a")) (NewRule (codes "d") Double []), Accepted 1 0 (span 0 0 (codes "d::\n") ∷ []) (Becomes (codes "d::\na: b\nendif"))) ∷  -- rule-086
    (codes "ifdef Z\nelse\na:\n\nelse", AddLine (AfterVar (Some 2) (codes "X")) (NewRule (codes "d") Single (codes "e")), NotMade 1 NoSuch) ∷  -- rule-087
    (codes "ifdef Z\na: b; i\n\tx\n\t# c\n\t# c\n# c", AddLine (BeforeRule None (codes "a")) (NewRule (codes "d") Double []), Accepted 1 0 (span 8 8 (codes "d::\n") ∷ []) (Becomes (codes "ifdef Z\nd::\na: b; i\n\tx\n\t# c\n\t# c\n# c"))) ∷  -- rule-088
    (codes "a:\nendif\nifdef A\n\tx\n", AddLine (AfterVar (Some 2) (codes "X")) (NewRule (codes "d") Single (codes "e")), NotMade 1 NoSuch) ∷  -- rule-089
    (codes "a: b; i\n\tx\n\tx\nifdef A\n\tx\r\n", RemoveLines (OfRule (Some 1) (codes "a")), NotMade 0 Straddles) ∷  -- rule-090
    (codes "ifdef Z\nelse\na: b; i\n\tx\nelse\nelse\na:\\\n c\n\tx\r\n", RemoveLines (OfAssign (Some 1) (codes "X")), NotMade 0 NoSuch) ∷  -- rule-091
    (codes "a: b; i\nelse\n# c\nb:\n\tx\n\nelse", RemoveLines (OfRule (Some 1) (codes "a")), Accepted 0 1 (span 0 8 [] ∷ []) (Becomes (codes "else\n# c\nb:\n\tx\n\nelse"))) ∷  -- rule-092
    (codes "ifdef Z\na: b; i\n# c\nelse\r\n", AddLine (AfterVar None (codes "X")) (NewRule (codes "d") Single (codes "e")), NotMade 1 NoSuch) ∷  -- rule-093
    (codes "ifdef Z\nelse\na:\nifdef A\n\tx\n\t# c\nelse\n", RemoveLines (OfAssign (Some 2) (codes "X")), NotMade 0 NoSuch) ∷  -- rule-094
    (codes "a: b; i\nifdef A\n\nendif\nelse\n\n", AddRecipe None (codes "a") Last (codes "w"), Accepted 1 0 (span 8 8 (codes "\tw\n") ∷ []) (Becomes (codes "a: b; i\n\tw\nifdef A\n\nendif\nelse\n\n"))) ∷  -- rule-095
    (codes "a: b\n\tx\n\r\n", RemoveLines (OfAssign None (codes "X")), NotMade 0 NoSuch) ∷  -- rule-096
    (codes "ifdef Z\nelse\na: b\nifdef A\nifdef A", RemoveLines (OfRule (Some 1) (codes "a")), Accepted 0 1 (span 13 18 [] ∷ []) (Becomes (codes "ifdef Z\nelse\nifdef A\nifdef A"))) ∷  -- rule-097
    (codes "ifdef Z\nelse\na: b; i\nifdef A\r\n", SetRecipe None (codes "a") (ByNumber 3) (codes "w"), NotMade 1 Absent) ∷  -- rule-098
    (codes "ifdef Z\nelse\na: b; i\nb:\nifdef A\nendif\nendif\nifdef A", AddLine (BeforeVar None (codes "X")) (NewAssign (codes "N") Conditional []), NotMade 1 NoSuch) ∷  -- rule-099
    (codes "a: b; i\nifdef A\n\tx\nifdef A\n", AddRecipe (Some 1) (codes "a") Last (codes "w"), NotMade 1 Straddles) ∷  -- rule-100
    (codes "ifdef Z\na: b\n\tx\n\ty\\\n\tz\nelse\r\n", AddRecipe (Some 1) (codes "a") Last (codes "w"), Accepted 1 0 (span 23 23 (codes "\tw\n") ∷ []) (Becomes (codes "ifdef Z\na: b\n\tx\n\ty\\\n\tz\n\tw\nelse\r\n"))) ∷  -- rule-101
    (codes "ifdef Z\na: b\n\na:\\\n c\n\ty\\\n\tz\n# c\r\n", RemoveLines (OfRecipe (Some 2) (codes "a") (ByNumber 3)), NotMade 0 Absent) ∷  -- rule-102
    (codes "ifdef Z\na: b; i\nifdef A\n\tx\n\tx\n# c\n$(u)\nendif\n", AddLine (BeforeRule None (codes "a")) (NewRule (codes "d") Double []), Accepted 1 0 (span 8 8 (codes "d::\n") ∷ []) (Becomes (codes "ifdef Z\nd::\na: b; i\nifdef A\n\tx\n\tx\n# c\n$(u)\nendif\n"))) ∷  -- rule-103
    (codes "a: b; i\nendif\n\ty\\\n\tz\n", RemoveLines (OfRecipe None (codes "a") (ByNumber 1)), NotMade 0 Absent) ∷  -- rule-104
    (codes "ifdef Z\nelse\na: b\n\n$(u)\n$(u)\nendif\nelse\n", RemoveLines (OfAssign None (codes "X")), NotMade 0 NoSuch) ∷  -- rule-105
    (codes "ifdef Z\na:\n\nelse\nendif\nX=1\r\n", SetRecipe (Some 2) (codes "a") (ByNumber 1) (codes "w"), NotMade 1 NoSuch) ∷  -- rule-106
    (codes "a: b\nelse\n\tx\nendif\n# c\n\r\n", AddRecipe (Some 2) (codes "a") Last (codes "w"), NotMade 1 NoSuch) ∷  -- rule-107
    (codes "ifdef Z\nelse\na:\n\n\tx\nendif\r\n", AddLine (AfterVar None (codes "X")) (NewRule (codes "d") Single (codes "e")), NotMade 1 NoSuch) ∷  -- rule-108
    (codes "ifdef Z\na: b\n# c\n# c\nifdef A\nelse\n\ty\\\n\tz\n\n", AddLine (BeforeRule None (codes "a")) (NewRule (codes "d") Double []), Accepted 1 0 (span 8 8 (codes "d::\n") ∷ []) (Becomes (codes "ifdef Z\nd::\na: b\n# c\n# c\nifdef A\nelse\n\ty\\\n\tz\n\n"))) ∷  -- rule-109
    (codes "a: b\n# c\n\tx\nelse\n\tx\n\tx\nendif\n", RemoveLines (OfRecipe None (codes "a") (ByNumber 1)), Accepted 0 1 (span 9 12 [] ∷ []) (Becomes (codes "a: b\n# c\nelse\n\tx\n\tx\nendif\n"))) ∷  -- rule-110
    (codes "a: b\nifdef A\n\tx\nelse\nifdef A", AddLine (BeforeRule None (codes "a")) (NewRule (codes "d") Double []), Accepted 1 0 (span 0 0 (codes "d::\n") ∷ []) (Becomes (codes "d::\na: b\nifdef A\n\tx\nelse\nifdef A"))) ∷  -- rule-111
    (codes "ifdef Z\nelse\na: b; i\n\tx\n# c\n", SetRecipe None (codes "a") (ByNumber 0) (codes "w"), NotMade 1 Absent) ∷  -- rule-112
    (codes "a: b; i\nendif\n\ty\\\n\tz\n\tx\nendif", RemoveLines (OfRule None (codes "a")), Accepted 0 1 (span 0 8 [] ∷ []) (Becomes (codes "endif\n\ty\\\n\tz\n\tx\nendif"))) ∷  -- rule-113
    (codes "ifdef Z\nelse\na: b; i\n\nelse", RemoveLines (OfRule None (codes "a")), Accepted 0 1 (span 13 21 [] ∷ []) (Becomes (codes "ifdef Z\nelse\n\nelse"))) ∷  -- rule-114
    (codes "ifdef Z\nelse\na:\nX=1\nelse\nifdef A\n\tx\n\n\tx\r\n", AddLine (BeforeVar None (codes "X")) (NewAssign (codes "N") Conditional []), Accepted 1 0 (span 16 16 (codes "N ?=\n") ∷ []) (Becomes (codes "ifdef Z\nelse\na:\nN ?=\nX=1\nelse\nifdef A\n\tx\n\n\tx\r\n"))) ∷  -- rule-115
    (codes "ifdef Z\nelse\na: b\n\nendif\r\n", RemoveLines (OfRule None (codes "a")), Accepted 0 1 (span 13 18 [] ∷ []) (Becomes (codes "ifdef Z\nelse\n\nendif\r\n"))) ∷  -- rule-116
    (codes "ifdef Z\na: b\n\tx\n", RemoveLines (OfAssign None (codes "X")), NotMade 0 NoSuch) ∷  -- rule-117
    (codes "ifdef Z\nelse\na:\nifdef A\n\nendif\n# c\nX=1\na:\\\n c\r\n", SetRecipe (Some 2) (codes "a") (ByNumber 3) [], NotMade 1 Absent) ∷  -- rule-118
    (codes "a: b; i\nendif\n", AddRecipe None (codes "a") Last (codes "w"), Accepted 1 0 (span 8 8 (codes "\tw\n") ∷ []) (Becomes (codes "a: b; i\n\tw\nendif\n"))) ∷  -- rule-119
    (codes "ifdef Z\na: b\n\ty\\\n\tz\nifdef A\nb:\n\tx\na:\\\n c", RemoveLines (OfRule None (codes "a")), NotMade 0 (Ambiguous 2)) ∷  -- rule-120
    (codes "a:\n\tx\n\tx\n$(u)\n", AddLine (AfterVar (Some 2) (codes "X")) (NewRule (codes "d") Single (codes "e")), NotMade 1 NoSuch) ∷  -- rule-121
    (codes "ifdef Z\nelse\na: b\n# c\nifdef A\n$(u)\nelse\r\n", AddLine (AfterVar (Some 2) (codes "X")) (NewRule (codes "d") Single (codes "e")), NotMade 1 NoSuch) ∷  -- rule-122
    (codes "ifdef Z\nelse\na: b\nendif\n\tx\n$(u)\n\tx\n# c\n", RemoveLines (OfAssign (Some 1) (codes "X")), NotMade 0 NoSuch) ∷  -- rule-123
    (codes "ifdef Z\na: b; i\n\n\tx", RemoveLines (OfRecipe (Some 2) (codes "a") (ByNumber 3)), NotMade 0 NoSuch) ∷  -- rule-124
    (codes "ifdef Z\na: b\n\ty\\\n\tz\nelse\n\nb:\n# c", RemoveLines (OfAssign None (codes "X")), NotMade 0 NoSuch) ∷  -- rule-125
    (codes "a: b\nb:\nifdef A\n\tx\nendif\n\tx\n", RemoveLines (OfAssign (Some 2) (codes "X")), NotMade 0 NoSuch) ∷  -- rule-126
    (codes "ifdef Z\nelse\na: b\n\nifdef A\n\ty\\\n\tz\n\tx", AddLine (BeforeVar (Some 1) (codes "X")) (NewAssign (codes "N") Conditional []), NotMade 1 NoSuch) ∷  -- rule-127
    (codes "a:\n\t# c\nX=1\nb:\nendif\nifdef A\nb:", SetRecipe None (codes "a") (ByNumber 0) [], NotMade 1 Absent) ∷  -- rule-128
    (codes "a: b; i\n\tx\n# c\n", AddLine (BeforeRule (Some 2) (codes "a")) (NewRule (codes "d") Double []), NotMade 1 NoSuch) ∷  -- rule-129
    (codes "ifdef Z\nelse\na: b; i\nendif\nifdef A\n# c\n\tx\n", AddLine (BeforeVar (Some 1) (codes "X")) (NewAssign (codes "N") Conditional []), NotMade 1 NoSuch) ∷  -- rule-130
    []

answers_7 : map (λ row. account row.0 row.1) rows_7 ≡ map (λ row. row.2) rows_7
answers_7 = refl

abbrev rows_8 : List (List ℕ × Edit × Account)
rows_8 =
    (codes "ifdef Z\na:\n\ty\\\n\tz\n\tx\nendif", RemoveLines (OfRule (Some 2) (codes "a")), NotMade 0 NoSuch) ∷  -- rule-131
    (codes "ifdef Z\na: b\nelse\n", RemoveLines (OfRule None (codes "a")), Accepted 0 1 (span 8 13 [] ∷ []) (Becomes (codes "ifdef Z\nelse\n"))) ∷  -- rule-132
    (codes "ifdef Z\na: b\nelse", RemoveLines (OfRule (Some 1) (codes "a")), Accepted 0 1 (span 8 13 [] ∷ []) (Becomes (codes "ifdef Z\nelse"))) ∷  -- rule-133
    (codes "ifdef Z\nelse\na:\n# c\n\tx\n# c\nelse\n\nendif", AddLine (BeforeVar None (codes "X")) (NewAssign (codes "N") Conditional []), NotMade 1 NoSuch) ∷  -- rule-134
    (codes "ifdef Z\nelse\na: b\n\ty\\\n\tz\n\tx\n\ty\\\n\tz\nifdef A\n", AddLine (BeforeVar (Some 1) (codes "X")) (NewAssign (codes "N") Conditional []), NotMade 1 NoSuch) ∷  -- rule-135
    (codes "a: b; i\n\tx", AddRecipe (Some 2) (codes "a") Last (codes "w"), NotMade 1 NoSuch) ∷  -- rule-136
    (codes "ifdef Z\nelse\na:\n\ty\\\n\tz\nX=1\nb:\na:\\\n c\nendif\n\n", RemoveLines (OfRecipe (Some 2) (codes "a") (ByNumber 1)), NotMade 0 Absent) ∷  -- rule-137
    (codes "ifdef Z\na:\n$(u)\n\n# c\n# c\n\ty\\\n\tz\n", RemoveLines (OfAssign None (codes "X")), NotMade 0 NoSuch) ∷  -- rule-138
    (codes "ifdef Z\nelse\na:\n$(u)\nelse\n# c\n", RemoveLines (OfRecipe (Some 2) (codes "a") (ByNumber 3)), NotMade 0 NoSuch) ∷  -- rule-139
    (codes "a: b\nendif\nb:\n\ty\\\n\tz\n\tx\n", SetRecipe (Some 2) (codes "a") (ByNumber 1) (codes "w"), NotMade 1 NoSuch) ∷  -- rule-140
    (codes "a:\n\tx\nendif\n\tx\nifdef A", SetRecipe None (codes "a") (ByNumber 2) [], NotMade 1 Absent) ∷  -- rule-141
    (codes "ifdef Z\na: b; i\nX=1\n$(u)\r\n", RemoveLines (OfAssign None (codes "X")), Accepted 0 1 (span 16 20 [] ∷ []) (Becomes (codes "ifdef Z\na: b; i\n$(u)\r\n"))) ∷  -- rule-142
    (codes "a: b; i\n\nelse\nendif\r\n", AddRecipe None (codes "a") Last (codes "w"), Accepted 1 0 (span 8 8 (codes "\tw\n") ∷ []) (Becomes (codes "a: b; i\n\tw\n\nelse\nendif\r\n"))) ∷  -- rule-143
    (codes "a:\nendif\nb:\n\t# c\nifdef A\nelse\n$(u)", SetRecipe None (codes "a") (ByNumber 2) [], NotMade 1 Absent) ∷  -- rule-144
    (codes "ifdef Z\nelse\na: b; i\nifdef A\n", RemoveLines (OfAssign None (codes "X")), NotMade 0 NoSuch) ∷  -- rule-145
    (codes "ifdef Z\nelse\na:\n\tx\r\n", RemoveLines (OfAssign (Some 2) (codes "X")), NotMade 0 NoSuch) ∷  -- rule-146
    (codes "ifdef Z\na:\n\nelse\n\n\t# c", AddRecipe None (codes "a") Last (codes "w"), NotMade 1 Straddles) ∷  -- rule-147
    (codes "ifdef Z\nelse\na: b\nifdef A\n\tx\n\ty\\\n\tz\r\n", AddLine (BeforeRule (Some 2) (codes "a")) (NewRule (codes "d") Double []), NotMade 1 NoSuch) ∷  -- rule-148
    (codes "ifdef Z\na: b; i\nb:\n\tx\nifdef A\n", AddLine (BeforeVar (Some 1) (codes "X")) (NewAssign (codes "N") Conditional []), NotMade 1 NoSuch) ∷  -- rule-149
    (codes "a: b\nifdef A\r\n", RemoveLines (OfRecipe None (codes "a") (ByNumber 1)), NotMade 0 Absent) ∷  -- rule-150
    (codes "a: b; i\n# c\nendif\n\tx\n\ty\\\n\tz", RemoveLines (OfRecipe (Some 2) (codes "a") (ByNumber 2)), NotMade 0 NoSuch) ∷  -- rule-151
    (codes "a:\n\t# c", AddLine (AfterVar None (codes "X")) (NewRule (codes "d") Single (codes "e")), NotMade 1 NoSuch) ∷  -- rule-152
    (codes "a:\n# c\n\t# c\nendif\nifdef A", AddLine (AfterVar (Some 1) (codes "X")) (NewRule (codes "d") Single (codes "e")), NotMade 1 NoSuch) ∷  -- rule-153
    (codes "a: b\nb:\n\tx\n$(u)\na:\\\n c\n\n\tx\r\n", RemoveLines (OfRecipe None (codes "a") (ByNumber 0)), NotMade 0 (Ambiguous 2)) ∷  -- rule-154
    (codes "ifdef Z\na: b\n\tx\n\nifdef A\n\ty\\\n\tz\nX=1\n", AddLine (BeforeRule (Some 1) (codes "a")) (NewRule (codes "d") Double []), Accepted 1 0 (span 8 8 (codes "d::\n") ∷ []) (Becomes (codes "ifdef Z\nd::\na: b\n\tx\n\nifdef A\n\ty\\\n\tz\nX=1\n"))) ∷  -- rule-155
    (codes "a:\n\tx\nendif\n", AddLine (BeforeRule (Some 1) (codes "a")) (NewRule (codes "d") Double []), Accepted 1 0 (span 0 0 (codes "d::\n") ∷ []) (Becomes (codes "d::\na:\n\tx\nendif\n"))) ∷  -- rule-156
    (codes "ifdef Z\nelse\na:\n# c\nifdef A\n# c\nb:\r\n", AddLine (BeforeRule (Some 1) (codes "a")) (NewRule (codes "d") Double []), Accepted 1 0 (span 13 13 (codes "d::\n") ∷ []) (Becomes (codes "ifdef Z\nelse\nd::\na:\n# c\nifdef A\n# c\nb:\r\n"))) ∷  -- rule-157
    (codes "ifdef Z\na:\n$(u)\n\ty\\\n\tz\n$(u)\n\t# c", AddRecipe (Some 1) (codes "a") Last (codes "w"), Accepted 1 0 (span 11 11 (codes "\tw\n") ∷ []) (Becomes (codes "ifdef Z\na:\n\tw\n$(u)\n\ty\\\n\tz\n$(u)\n\t# c"))) ∷  -- rule-158
    (codes "ifdef Z\na: b; i\n\tx\n\t# c\n\tx\n$(u)\n\r\n", RemoveLines (OfAssign (Some 2) (codes "X")), NotMade 0 NoSuch) ∷  -- rule-159
    (codes "ifdef Z\na:\nendif\n", AddLine (AfterVar None (codes "X")) (NewRule (codes "d") Single (codes "e")), NotMade 1 NoSuch) ∷  -- rule-160
    (codes "ifdef Z\nelse\na:\n\tx\n\tx\r\n", AddLine (AfterVar (Some 2) (codes "X")) (NewRule (codes "d") Single (codes "e")), NotMade 1 NoSuch) ∷  -- rule-161
    (codes "a: b; i\n\ty\\\n\tz\nb:\n# c\n\tx", RemoveLines (OfRecipe None (codes "a") (ByNumber 1)), Accepted 0 1 (span 8 15 [] ∷ []) (Becomes (codes "a: b; i\nb:\n# c\n\tx"))) ∷  -- rule-162
    (codes "ifdef Z\nelse\na: b; i\nendif\n\t# c\n# c\r\n", RemoveLines (OfRecipe (Some 2) (codes "a") (ByNumber 1)), NotMade 0 NoSuch) ∷  -- rule-163
    (codes "ifdef Z\nelse\na: b; i\nb:\n\tx\nendif\nb:\n", SetRecipe None (codes "a") (ByNumber 0) (codes "w"), NotMade 1 Absent) ∷  -- rule-164
    (codes "a:\n\tx", AddRecipe None (codes "a") Last (codes "w"), Accepted 1 0 (span 5 5 (codes "\n\tw\n") ∷ []) (Becomes (codes "a:\n\tx\n\tw\n"))) ∷  -- rule-165
    (codes "ifdef Z\na: b; i\nendif", RemoveLines (OfRecipe None (codes "a") (ByNumber 1)), NotMade 0 Absent) ∷  -- rule-166
    (codes "a: b; i\n\tx\n\tx\r\n", RemoveLines (OfRecipe (Some 2) (codes "a") (ByNumber 2)), NotMade 0 NoSuch) ∷  -- rule-167
    (codes "ifdef Z\nelse\na:\nifdef A\nendif\n", AddLine (BeforeRule (Some 1) (codes "a")) (NewRule (codes "d") Double []), Accepted 1 0 (span 13 13 (codes "d::\n") ∷ []) (Becomes (codes "ifdef Z\nelse\nd::\na:\nifdef A\nendif\n"))) ∷  -- rule-168
    (codes "a: b; i\na:\\\n c", AddLine (BeforeRule (Some 2) (codes "a")) (NewRule (codes "d") Double []), Accepted 1 0 (span 8 8 (codes "d::\n") ∷ []) (Becomes (codes "a: b; i\nd::\na:\\\n c"))) ∷  -- rule-169
    (codes "ifdef Z\na:\n\tx\n$(u)\nendif\nelse\nendif\nifdef A\r\n", RemoveLines (OfRecipe None (codes "a") (ByNumber 2)), NotMade 0 Absent) ∷  -- rule-170
    (codes "a:\n\ty\\\n\tz\nb:\n# c\n\t# c", SetRecipe (Some 1) (codes "a") (ByNumber 3) [], NotMade 1 Absent) ∷  -- rule-171
    (codes "ifdef Z\na: b; i\n\t# c\nendif\na:\\\n c\nX=1\n", AddLine (BeforeVar (Some 1) (codes "X")) (NewAssign (codes "N") Conditional []), Accepted 1 0 (span 34 34 (codes "N ?=\n") ∷ []) (Becomes (codes "ifdef Z\na: b; i\n\t# c\nendif\na:\\\n c\nN ?=\nX=1\n"))) ∷  -- rule-172
    (codes "a: b; i\n$(u)\n\tx\n\ty\\\n\tz\nendif\n\tx\n", SetRecipe None (codes "a") (ByNumber 0) (codes "w"), NotMade 1 Absent) ∷  -- rule-173
    (codes "ifdef Z\na: b\n\tx\r\n", AddLine (AfterVar (Some 2) (codes "X")) (NewRule (codes "d") Single (codes "e")), NotMade 1 NoSuch) ∷  -- rule-174
    (codes "ifdef Z\na: b\nX=1\n", RemoveLines (OfRule None (codes "a")), Accepted 0 1 (span 8 13 [] ∷ []) (Becomes (codes "ifdef Z\nX=1\n"))) ∷  -- rule-175
    (codes "ifdef Z\na:\n# c", AddLine (BeforeVar (Some 2) (codes "X")) (NewAssign (codes "N") Conditional []), NotMade 1 NoSuch) ∷  -- rule-176
    (codes "ifdef Z\nelse\na: b; i\n\ty\\\n\tz\n", RemoveLines (OfRule (Some 2) (codes "a")), NotMade 0 NoSuch) ∷  -- rule-177
    (codes "a:\n# c\n\t# c\nendif\n\tx", RemoveLines (OfRecipe (Some 2) (codes "a") (ByNumber 2)), NotMade 0 NoSuch) ∷  -- rule-178
    (codes "a:\na:\\\n c\n\r\n", AddLine (BeforeRule (Some 2) (codes "a")) (NewRule (codes "d") Double []), Accepted 1 0 (span 3 3 (codes "d::\n") ∷ []) (Becomes (codes "a:\nd::\na:\\\n c\n\r\n"))) ∷  -- rule-179
    (codes "ifdef Z\na: b\nifdef A\n\tx\n\tx\nendif\n$(u)\r\n", AddRecipe (Some 1) (codes "a") Last (codes "w"), NotMade 1 Straddles) ∷  -- rule-180
    []

answers_8 : map (λ row. account row.0 row.1) rows_8 ≡ map (λ row. row.2) rows_8
answers_8 = refl

abbrev rows_9 : List (List ℕ × Edit × Account)
rows_9 =
    (codes "ifdef Z\nelse\na: b; i\nb:\n\nelse\r\n", RemoveLines (OfRecipe None (codes "a") (ByNumber 3)), NotMade 0 Absent) ∷  -- rule-181
    (codes "ifdef Z\na: b; i\nendif\n\tx\nelse\nifdef A\nifdef A\na:\\\n c\r\n", RemoveLines (OfAssign (Some 1) (codes "X")), NotMade 0 NoSuch) ∷  -- rule-182
    (codes "ifdef Z\na:\n\ty\\\n\tz\n", AddLine (BeforeVar None (codes "X")) (NewAssign (codes "N") Conditional []), NotMade 1 NoSuch) ∷  -- rule-183
    (codes "ifdef Z\na: b\n\tx\nelse\n\tx\n\ty\\\n\tz\n$(u)\nelse", RemoveLines (OfAssign (Some 1) (codes "X")), NotMade 0 NoSuch) ∷  -- rule-184
    (codes "a: b\nifdef A\n# c\n\tx\n\ty\\\n\tz\n\ty\\\n\tz\nendif\r\n", SetRecipe (Some 1) (codes "a") (ByNumber 1) (codes "w"), Accepted 1 1 (span 18 19 (codes "w") ∷ []) (Becomes (codes "a: b\nifdef A\n# c\n\tw\n\ty\\\n\tz\n\ty\\\n\tz\nendif\r\n"))) ∷  -- rule-185
    (codes "ifdef Z\nelse\na:\nelse\n$(u)\n\tx\n", AddLine (BeforeVar None (codes "X")) (NewAssign (codes "N") Conditional []), NotMade 1 NoSuch) ∷  -- rule-186
    (codes "a: b\nifdef A", AddLine (BeforeRule None (codes "a")) (NewRule (codes "d") Double []), Accepted 1 0 (span 0 0 (codes "d::\n") ∷ []) (Becomes (codes "d::\na: b\nifdef A"))) ∷  -- rule-187
    (codes "ifdef Z\na:\n$(u)\n\n\ty\\\n\tz\nendif\n", AddLine (BeforeVar None (codes "X")) (NewAssign (codes "N") Conditional []), NotMade 1 NoSuch) ∷  -- rule-188
    (codes "ifdef Z\na:\nifdef A\n", AddLine (BeforeVar (Some 1) (codes "X")) (NewAssign (codes "N") Conditional []), NotMade 1 NoSuch) ∷  -- rule-189
    (codes "ifdef Z\nelse\na: b\nendif\n# c\nendif\n# c\r\n", AddLine (BeforeVar None (codes "X")) (NewAssign (codes "N") Conditional []), NotMade 1 NoSuch) ∷  -- rule-190
    (codes "a: b; i\n\n\ty\\\n\tz\n\tx", AddLine (BeforeVar (Some 1) (codes "X")) (NewAssign (codes "N") Conditional []), NotMade 1 NoSuch) ∷  -- rule-191
    (codes "ifdef Z\nelse\na: b\nendif\n", AddRecipe None (codes "a") Last (codes "w"), Accepted 1 0 (span 18 18 (codes "\tw\n") ∷ []) (Becomes (codes "ifdef Z\nelse\na: b\n\tw\nendif\n"))) ∷  -- rule-192
    (codes "ifdef Z\nelse\na:\n\ty\\\n\tz\n\tx\n$(u)\n\tx\n\tx", RemoveLines (OfRule None (codes "a")), Accepted 0 3 (span 13 26 [] ∷ []) (Becomes (codes "ifdef Z\nelse\n$(u)\n\tx\n\tx"))) ∷  -- rule-193
    (codes "ifdef Z\nelse\na: b; i\nifdef A", SetRecipe None (codes "a") (ByNumber 0) (codes "w"), NotMade 1 Absent) ∷  -- rule-194
    (codes "ifdef Z\na: b; i\n\t# c\n# c\nifdef A\r\n", AddRecipe None (codes "a") Last (codes "w"), Accepted 1 0 (span 21 21 (codes "\tw\n") ∷ []) (Becomes (codes "ifdef Z\na: b; i\n\t# c\n\tw\n# c\nifdef A\r\n"))) ∷  -- rule-195
    (codes "ifdef Z\nelse\na: b\n$(u)\n# c\n\nifdef A\na:\\\n c", AddLine (BeforeVar None (codes "X")) (NewAssign (codes "N") Conditional []), NotMade 1 NoSuch) ∷  -- rule-196
    (codes "ifdef Z\nelse\na: b\nifdef A\n\tx\r\n", RemoveLines (OfRecipe (Some 2) (codes "a") (ByNumber 0)), NotMade 0 NoSuch) ∷  -- rule-197
    (codes "a: b; i\n\tx\n\n", AddLine (BeforeVar (Some 1) (codes "X")) (NewAssign (codes "N") Conditional []), NotMade 1 NoSuch) ∷  -- rule-198
    (codes "ifdef Z\nelse\na:\na:\\\n c\na:\\\n c\n", AddRecipe None (codes "a") Last (codes "w"), NotMade 1 (Ambiguous 3)) ∷  -- rule-199
    (codes "ifdef Z\na:\nendif\n# c\nifdef A\nifdef A\n\tx\nifdef A\r\n", SetRecipe (Some 1) (codes "a") (ByNumber 3) [], NotMade 1 Absent) ∷  -- rule-200
    (codes "ifdef Z\na: b; i\nifdef A", RemoveLines (OfRule (Some 2) (codes "a")), NotMade 0 NoSuch) ∷  -- rule-201
    (codes "a:\n# c\nifdef A\n\t# c\n\t# c\n\tx\nX=1\n", AddRecipe None (codes "a") Last (codes "w"), NotMade 1 Straddles) ∷  -- rule-202
    (codes "a: b; i\nendif\n\tx\n\n# c\nelse\nifdef A", RemoveLines (OfRecipe (Some 2) (codes "a") (ByNumber 3)), NotMade 0 NoSuch) ∷  -- rule-203
    (codes "ifdef Z\na:\n\t# c\n\tx\n\nelse\n", RemoveLines (OfRule None (codes "a")), Accepted 0 3 (span 8 19 [] ∷ []) (Becomes (codes "ifdef Z\n\nelse\n"))) ∷  -- rule-204
    (codes "ifdef Z\na: b; i\nendif\n\nifdef A\nendif\r\n", AddLine (AfterVar None (codes "X")) (NewRule (codes "d") Single (codes "e")), NotMade 1 NoSuch) ∷  -- rule-205
    (codes "a: b\nendif\nelse\n# c\n", AddLine (AfterVar None (codes "X")) (NewRule (codes "d") Single (codes "e")), NotMade 1 NoSuch) ∷  -- rule-206
    (codes "ifdef Z\na: b\nelse\na:\\\n c\n\tx\n\tx\n# c\n", AddLine (BeforeVar None (codes "X")) (NewAssign (codes "N") Conditional []), NotMade 1 NoSuch) ∷  -- rule-207
    (codes "ifdef Z\na:\n\tx", RemoveLines (OfRecipe (Some 2) (codes "a") (ByNumber 1)), NotMade 0 NoSuch) ∷  -- rule-208
    (codes "ifdef Z\nelse\na:\nendif\n\tx", AddRecipe (Some 1) (codes "a") Last (codes "w"), NotMade 1 Straddles) ∷  -- rule-209
    (codes "a: b; i\nendif\nendif\n\tx\n", AddLine (AfterVar None (codes "X")) (NewRule (codes "d") Single (codes "e")), NotMade 1 NoSuch) ∷  -- rule-210
    (codes "ifdef Z\na: b; i\n\n\tx\n\ty\\\n\tz\n\tx\n$(u)\n", RemoveLines (OfRecipe (Some 1) (codes "a") (ByNumber 2)), Accepted 0 1 (span 20 27 [] ∷ []) (Becomes (codes "ifdef Z\na: b; i\n\n\tx\n\tx\n$(u)\n"))) ∷  -- rule-211
    (codes "a: b\n\t# c\n\ty\\\n\tz\nb:\n$(u)\n\tx", SetRecipe None (codes "a") (ByNumber 0) (codes "w"), NotMade 1 Absent) ∷  -- rule-212
    (codes "a: b\n\tx\nifdef A\nifdef A\nelse\n\ty\\\n\tz\n\tx", RemoveLines (OfAssign (Some 2) (codes "X")), NotMade 0 NoSuch) ∷  -- rule-213
    (codes "a: b; i\n$(u)\n# c\n\tx\n", RemoveLines (OfAssign (Some 2) (codes "X")), NotMade 0 NoSuch) ∷  -- rule-214
    (codes "a:\nendif\nifdef A\n\n# c\n\tx\nifdef A", AddLine (AfterVar (Some 1) (codes "X")) (NewRule (codes "d") Single (codes "e")), NotMade 1 NoSuch) ∷  -- rule-215
    (codes "a:\n\tx\nb:", AddRecipe None (codes "a") Last (codes "w"), Accepted 1 0 (span 6 6 (codes "\tw\n") ∷ []) (Becomes (codes "a:\n\tx\n\tw\nb:"))) ∷  -- rule-216
    (codes "ifdef Z\nelse\na: b\nendif\nifdef A\n\tx\nifdef A\nifdef A", RemoveLines (OfAssign (Some 1) (codes "X")), NotMade 0 NoSuch) ∷  -- rule-217
    (codes "ifdef Z\nelse\na: b\n# c\r\n", RemoveLines (OfRule (Some 2) (codes "a")), NotMade 0 NoSuch) ∷  -- rule-218
    (codes "a: b; i\n\ty\\\n\tz\n", RemoveLines (OfRecipe None (codes "a") (ByNumber 1)), Accepted 0 1 (span 8 15 [] ∷ []) (Becomes (codes "a: b; i\n"))) ∷  -- rule-219
    (codes "ifdef Z\na:\n# c\n# c\n# c\n\tx\n\tx\na:\\\n c", AddRecipe None (codes "a") Last (codes "w"), NotMade 1 (Ambiguous 2)) ∷  -- rule-220
    (codes "ifdef Z\na: b\n$(u)\nb:\n\tx\nifdef A\nX=1", AddLine (BeforeRule (Some 1) (codes "a")) (NewRule (codes "d") Double []), Accepted 1 0 (span 8 8 (codes "d::\n") ∷ []) (Becomes (codes "ifdef Z\nd::\na: b\n$(u)\nb:\n\tx\nifdef A\nX=1"))) ∷  -- rule-221
    (codes "a:\n\n\tx\n\tx\n\ty\\\n\tz\nendif\nendif\r\n", RemoveLines (OfRule (Some 1) (codes "a")), Accepted 0 5 (span 0 17 [] ∷ []) (Becomes (codes "endif\nendif\r\n"))) ∷  -- rule-222
    (codes "ifdef Z\nelse\na: b; i\n$(u)\n\nifdef A", AddLine (BeforeRule None (codes "a")) (NewRule (codes "d") Double []), Accepted 1 0 (span 13 13 (codes "d::\n") ∷ []) (Becomes (codes "ifdef Z\nelse\nd::\na: b; i\n$(u)\n\nifdef A"))) ∷  -- rule-223
    (codes "ifdef Z\nelse\na: b\n\tx\nifdef A\nifdef A\n$(u)\nelse\r\n", AddLine (AfterVar None (codes "X")) (NewRule (codes "d") Single (codes "e")), NotMade 1 NoSuch) ∷  -- rule-224
    (codes "ifdef Z\nelse\na:\nifdef A\n\ty\\\n\tz\na:\\\n c\nifdef A\n\tx\n\tx\n", AddRecipe (Some 2) (codes "a") Last (codes "w"), NotMade 1 Straddles) ∷  -- rule-225
    (codes "ifdef Z\na:\n\ty\\\n\tz\nelse\n\ty\\\n\tz\na:\\\n c\na:\\\n c\n\n", AddLine (BeforeVar None (codes "X")) (NewAssign (codes "N") Conditional []), NotMade 1 NoSuch) ∷  -- rule-226
    (codes "ifdef Z\na: b\nelse\nifdef A\r\n", AddLine (AfterVar (Some 2) (codes "X")) (NewRule (codes "d") Single (codes "e")), NotMade 1 NoSuch) ∷  -- rule-227
    (codes "ifdef Z\nelse\na:\nendif\n", AddLine (AfterVar (Some 2) (codes "X")) (NewRule (codes "d") Single (codes "e")), NotMade 1 NoSuch) ∷  -- rule-228
    (codes "ifdef Z\na:\n$(u)\nifdef A\n# c", AddLine (BeforeVar (Some 2) (codes "X")) (NewAssign (codes "N") Conditional []), NotMade 1 NoSuch) ∷  -- rule-229
    (codes "ifdef Z\na:\n\nifdef A\n$(u)\nelse\n# c\nifdef A", AddRecipe (Some 2) (codes "a") Last (codes "w"), NotMade 1 NoSuch) ∷  -- rule-230
    []

answers_9 : map (λ row. account row.0 row.1) rows_9 ≡ map (λ row. row.2) rows_9
answers_9 = refl

abbrev rows_10 : List (List ℕ × Edit × Account)
rows_10 =
    (codes "a: b\n\tx\n\tx\n\tx\n\tx\n", RemoveLines (OfRule (Some 2) (codes "a")), NotMade 0 NoSuch) ∷  -- rule-231
    (codes "ifdef Z\na:\n\ty\\\n\tz\n\ty\\\n\tz\n# c\nendif\n", AddLine (BeforeVar None (codes "X")) (NewAssign (codes "N") Conditional []), NotMade 1 NoSuch) ∷  -- rule-232
    (codes "a: b; i\n# c\r\n", SetRecipe (Some 1) (codes "a") (ByNumber 3) (codes "w"), NotMade 1 Absent) ∷  -- rule-233
    (codes "ifdef Z\nelse\na: b; i\n# c\n", AddLine (BeforeRule None (codes "a")) (NewRule (codes "d") Double []), Accepted 1 0 (span 13 13 (codes "d::\n") ∷ []) (Becomes (codes "ifdef Z\nelse\nd::\na: b; i\n# c\n"))) ∷  -- rule-234
    (codes "ifdef Z\nelse\na:\n\ty\\\n\tz\n# c\r\n", AddLine (BeforeVar (Some 2) (codes "X")) (NewAssign (codes "N") Conditional []), NotMade 1 NoSuch) ∷  -- rule-235
    (codes "a: b; i\n\tx\n\tx\n\tx\n# c", RemoveLines (OfRecipe (Some 2) (codes "a") (ByNumber 2)), NotMade 0 NoSuch) ∷  -- rule-236
    (codes "ifdef Z\na: b\n\n# c\n\tx\n\tx\n\ty\\\n\tz\n", RemoveLines (OfAssign (Some 1) (codes "X")), NotMade 0 NoSuch) ∷  -- rule-237
    (codes "ifdef Z\nelse\na:\n\t# c\r\n", AddLine (BeforeRule None (codes "a")) (NewRule (codes "d") Double []), Accepted 1 0 (span 13 13 (codes "d::\n") ∷ []) (Becomes (codes "ifdef Z\nelse\nd::\na:\n\t# c\r\n"))) ∷  -- rule-238
    (codes "ifdef Z\na: b; i\na:\\\n c\n\ty\\\n\tz\nb:\nb:\nb:", AddLine (BeforeVar (Some 1) (codes "X")) (NewAssign (codes "N") Conditional []), NotMade 1 NoSuch) ∷  -- rule-239
    (codes "ifdef Z\na:\n\tx\nX=1\nendif\na:\\\n c\nendif\n$(u)", RemoveLines (OfRecipe None (codes "a") (ByNumber 1)), NotMade 0 (Ambiguous 2)) ∷  -- rule-240
    (codes "a:\nb:\n# c\nifdef A\na:\\\n c\nifdef A\nendif", RemoveLines (OfRule None (codes "a")), NotMade 0 (Ambiguous 2)) ∷  -- rule-241
    (codes "ifdef Z\na: b; i\n\ty\\\n\tz\n\t# c\nifdef A\n$(u)\n# c\r\n", AddLine (BeforeVar (Some 2) (codes "X")) (NewAssign (codes "N") Conditional []), NotMade 1 NoSuch) ∷  -- rule-242
    (codes "a: b\n\tx\n\n\tx\n\tx\n\t# c\n\tx", RemoveLines (OfRule None (codes "a")), Accepted 0 7 (span 0 22 [] ∷ []) (Becomes [])) ∷  -- rule-243
    (codes "ifdef Z\nelse\na: b\n\tx\nelse\n$(u)\n\tx\nendif", AddRecipe None (codes "a") Last (codes "w"), Accepted 1 0 (span 21 21 (codes "\tw\n") ∷ []) (Becomes (codes "ifdef Z\nelse\na: b\n\tx\n\tw\nelse\n$(u)\n\tx\nendif"))) ∷  -- rule-244
    (codes "ifdef Z\nelse\na: b\nendif\n\tx\nifdef A", SetRecipe (Some 2) (codes "a") (ByNumber 1) (codes "w"), NotMade 1 NoSuch) ∷  -- rule-245
    (codes "ifdef Z\na: b\nelse\n# c\nifdef A\n\tx\r\n", AddLine (AfterVar None (codes "X")) (NewRule (codes "d") Single (codes "e")), NotMade 1 NoSuch) ∷  -- rule-246
    (codes "ifdef Z\nelse\na:\nendif", AddLine (BeforeRule (Some 1) (codes "a")) (NewRule (codes "d") Double []), Accepted 1 0 (span 13 13 (codes "d::\n") ∷ []) (Becomes (codes "ifdef Z\nelse\nd::\na:\nendif"))) ∷  -- rule-247
    (codes "ifdef Z\na: b; i\na:\\\n c\n\ty\\\n\tz\r\n", AddLine (BeforeRule (Some 2) (codes "a")) (NewRule (codes "d") Double []), Accepted 1 0 (span 16 16 (codes "d::\n") ∷ []) (Becomes (codes "ifdef Z\na: b; i\nd::\na:\\\n c\n\ty\\\n\tz\r\n"))) ∷  -- rule-248
    (codes "ifdef Z\na: b\nX=1\n\ty\\\n\tz\n\tx\n# c\nendif\n\tx", RemoveLines (OfRule None (codes "a")), Accepted 0 1 (span 8 13 [] ∷ []) (Becomes (codes "ifdef Z\nX=1\n\ty\\\n\tz\n\tx\n# c\nendif\n\tx"))) ∷  -- rule-249
    (codes "a: b\nendif\nifdef A\n\n\tx\nendif\nifdef A\r\n", AddLine (BeforeVar (Some 1) (codes "X")) (NewAssign (codes "N") Conditional []), NotMade 1 NoSuch) ∷  -- rule-250
    (codes "ifdef Z\na:\nendif\n\tx\nendif", AddRecipe (Some 1) (codes "a") Last (codes "w"), NotMade 1 Straddles) ∷  -- rule-251
    (codes "ifdef Z\nelse\na: b; i\nendif\n\tx\nendif\nifdef A\n\tx\nendif\r\n", AddLine (AfterVar (Some 2) (codes "X")) (NewRule (codes "d") Single (codes "e")), NotMade 1 NoSuch) ∷  -- rule-252
    (codes "ifdef Z\na: b; i\na:\\\n c\n# c\nifdef A\n\t# c\nifdef A\n# c", AddLine (BeforeVar (Some 2) (codes "X")) (NewAssign (codes "N") Conditional []), NotMade 1 NoSuch) ∷  -- rule-253
    (codes "a:\nifdef A\n\tx\n", RemoveLines (OfRule (Some 2) (codes "a")), NotMade 0 NoSuch) ∷  -- rule-254
    (codes "a: b\n\tx\nendif\n\t# c\r\n", AddLine (BeforeVar (Some 1) (codes "X")) (NewAssign (codes "N") Conditional []), NotMade 1 NoSuch) ∷  -- rule-255
    (codes "a: b; i\n\tx\n", RemoveLines (OfRule (Some 1) (codes "a")), Accepted 0 2 (span 0 11 [] ∷ []) (Becomes [])) ∷  -- rule-256
    (codes "ifdef Z\nelse\na:\n\tx\nendif\nelse\n\tx\n\ty\\\n\tz\na:\\\n c", AddLine (BeforeRule (Some 1) (codes "a")) (NewRule (codes "d") Double []), Accepted 1 0 (span 13 13 (codes "d::\n") ∷ []) (Becomes (codes "ifdef Z\nelse\nd::\na:\n\tx\nendif\nelse\n\tx\n\ty\\\n\tz\na:\\\n c"))) ∷  -- rule-257
    (codes "ifdef Z\na: b; i\n\n\t# c\n\r\n", AddLine (AfterVar None (codes "X")) (NewRule (codes "d") Single (codes "e")), NotMade 1 NoSuch) ∷  -- rule-258
    (codes "ifdef Z\nelse\na: b\nifdef A\nendif\n\tx\nelse\n# c\n", SetRecipe None (codes "a") (ByNumber 3) (codes "w"), NotMade 1 Absent) ∷  -- rule-259
    (codes "ifdef Z\nelse\na: b\nendif\n", AddRecipe None (codes "a") Last (codes "w"), Accepted 1 0 (span 18 18 (codes "\tw\n") ∷ []) (Becomes (codes "ifdef Z\nelse\na: b\n\tw\nendif\n"))) ∷  -- rule-260
    (codes "ifdef Z\nelse\na: b\nifdef A\n\nifdef A\r\n", SetRecipe (Some 2) (codes "a") (ByNumber 1) (codes "w"), NotMade 1 NoSuch) ∷  -- rule-261
    (codes "a:\nendif\n\n\tx\n", RemoveLines (OfRecipe None (codes "a") (ByNumber 0)), NotMade 0 Absent) ∷  -- rule-262
    (codes "ifdef Z\na: b; i\na:\\\n c\nelse\n\tx\nendif", RemoveLines (OfRecipe (Some 1) (codes "a") (ByNumber 3)), NotMade 0 Absent) ∷  -- rule-263
    (codes "ifdef Z\nelse\na: b; i\nendif\n\tx\nifdef A\n\tx\nb:\n", RemoveLines (OfRule None (codes "a")), NotMade 0 Straddles) ∷  -- rule-264
    (codes "a:\nifdef A\nelse\r\n", RemoveLines (OfAssign (Some 2) (codes "X")), NotMade 0 NoSuch) ∷  -- rule-265
    (codes "ifdef Z\nelse\na:\nifdef A\n\tx\nifdef A\r\n", RemoveLines (OfRecipe (Some 2) (codes "a") (ByNumber 1)), NotMade 0 NoSuch) ∷  -- rule-266
    (codes "a: b\nb:\nifdef A\n\nX=1\n# c\n\tx\r\n", SetRecipe None (codes "a") (ByNumber 0) [], NotMade 1 Absent) ∷  -- rule-267
    (codes "a: b; i\n\tx\n\n\tx\n", RemoveLines (OfRecipe (Some 1) (codes "a") (ByNumber 3)), NotMade 0 Absent) ∷  -- rule-268
    (codes "a:\n\tx\n$(u)\nelse\r\n", AddRecipe (Some 2) (codes "a") Last (codes "w"), NotMade 1 NoSuch) ∷  -- rule-269
    (codes "ifdef Z\na:\n\tx\nendif\r\n", RemoveLines (OfAssign (Some 2) (codes "X")), NotMade 0 NoSuch) ∷  -- rule-270
    (codes "a: b\n\tx\n", RemoveLines (OfRecipe (Some 1) (codes "a") (ByNumber 2)), NotMade 0 Absent) ∷  -- rule-271
    (codes "ifdef Z\nelse\na:\nelse\nendif\nifdef A\nendif", RemoveLines (OfRule (Some 1) (codes "a")), Accepted 0 1 (span 13 16 [] ∷ []) (Becomes (codes "ifdef Z\nelse\nelse\nendif\nifdef A\nendif"))) ∷  -- rule-272
    (codes "a: b\nendif\n\tx\n\ty\\\n\tz\n\tx\n", RemoveLines (OfRecipe (Some 1) (codes "a") (ByNumber 3)), NotMade 0 Absent) ∷  -- rule-273
    (codes "a: b; i\nendif\n", RemoveLines (OfRecipe (Some 2) (codes "a") (ByNumber 2)), NotMade 0 NoSuch) ∷  -- rule-274
    (codes "a: b\n\ty\\\n\tz\nb:\r\n", RemoveLines (OfAssign None (codes "X")), NotMade 0 NoSuch) ∷  -- rule-275
    (codes "ifdef Z\nelse\na: b\n\t# c\n# c\n", AddLine (BeforeVar None (codes "X")) (NewAssign (codes "N") Conditional []), NotMade 1 NoSuch) ∷  -- rule-276
    (codes "a: b\nb:\n\tx\r\n", SetRecipe (Some 2) (codes "a") (ByNumber 3) (codes "w"), NotMade 1 NoSuch) ∷  -- rule-277
    (codes "ifdef Z\na:\n# c\nendif\n\ty\\\n\tz\nendif\n", RemoveLines (OfAssign None (codes "X")), NotMade 0 NoSuch) ∷  -- rule-278
    (codes "a: b; i\nendif\n\ty\\\n\tz\n\tx\n\tx\n\tx\nendif\n", AddLine (BeforeVar (Some 1) (codes "X")) (NewAssign (codes "N") Conditional []), NotMade 1 NoSuch) ∷  -- rule-279
    (codes "ifdef Z\na: b\n\tx\r\n", SetRecipe (Some 2) (codes "a") (ByNumber 1) (codes "w"), NotMade 1 NoSuch) ∷  -- rule-280
    []

answers_10 : map (λ row. account row.0 row.1) rows_10 ≡ map (λ row. row.2) rows_10
answers_10 = refl

abbrev rows_11 : List (List ℕ × Edit × Account)
rows_11 =
    (codes "ifdef Z\nelse\na: b; i\n\tx\nelse\n\tx\nendif\n\tx\n\tx\n", AddRecipe (Some 2) (codes "a") Last (codes "w"), NotMade 1 NoSuch) ∷  -- rule-281
    (codes "ifdef Z\nelse\na:\nX=1\n\tx\n\tx\n\n\ty\\\n\tz\r\n", SetRecipe (Some 2) (codes "a") (ByNumber 0) (codes "w"), NotMade 1 NoSuch) ∷  -- rule-282
    (codes "a:\n\tx\n\ty\\\n\tz\nelse\r\n", RemoveLines (OfRule (Some 1) (codes "a")), Accepted 0 3 (span 0 13 [] ∷ []) (Becomes (codes "else\r\n"))) ∷  -- rule-283
    (codes "a: b; i\nb:", AddLine (BeforeRule (Some 2) (codes "a")) (NewRule (codes "d") Double []), NotMade 1 NoSuch) ∷  -- rule-284
    (codes "a: b; i\n$(u)\n\tx\nendif\n\tx\nifdef A\nelse\n", SetRecipe (Some 1) (codes "a") (ByNumber 2) (codes "w"), NotMade 1 Absent) ∷  -- rule-285
    (codes "ifdef Z\nelse\na: b\n\tx\n\t# c\n\tx\n", AddLine (AfterVar (Some 2) (codes "X")) (NewRule (codes "d") Single (codes "e")), NotMade 1 NoSuch) ∷  -- rule-286
    (codes "a: b\n\tx\n\tx\r\n", RemoveLines (OfRule None (codes "a")), Accepted 0 3 (span 0 12 [] ∷ []) (Becomes [])) ∷  -- rule-287
    (codes "a: b\n\n", AddLine (BeforeRule (Some 2) (codes "a")) (NewRule (codes "d") Double []), NotMade 1 NoSuch) ∷  -- rule-288
    (codes "ifdef Z\nelse\na: b; i\nelse\n# c\r\n", AddLine (BeforeVar None (codes "X")) (NewAssign (codes "N") Conditional []), NotMade 1 NoSuch) ∷  -- rule-289
    (codes "ifdef Z\nelse\na: b\n\tx\n\tx\n# c\n\r\n", AddRecipe (Some 2) (codes "a") Last (codes "w"), NotMade 1 NoSuch) ∷  -- rule-290
    (codes "ifdef Z\nelse\na:\n# c\n$(u)\na:\\\n c\nendif\r\n", AddRecipe (Some 1) (codes "a") Last (codes "w"), Accepted 1 0 (span 16 16 (codes "\tw\n") ∷ []) (Becomes (codes "ifdef Z\nelse\na:\n\tw\n# c\n$(u)\na:\\\n c\nendif\r\n"))) ∷  -- rule-291
    (codes "a:\nb:\r\n", RemoveLines (OfAssign None (codes "X")), NotMade 0 NoSuch) ∷  -- rule-292
    (codes "ifdef Z\nelse\na: b; i\n\nendif\n", AddLine (BeforeRule None (codes "a")) (NewRule (codes "d") Double []), Accepted 1 0 (span 13 13 (codes "d::\n") ∷ []) (Becomes (codes "ifdef Z\nelse\nd::\na: b; i\n\nendif\n"))) ∷  -- rule-293
    (codes "ifdef Z\na: b; i\nendif\n\tx\n\ty\\\n\tz\r\n", AddLine (BeforeRule (Some 2) (codes "a")) (NewRule (codes "d") Double []), NotMade 1 NoSuch) ∷  -- rule-294
    (codes "a: b\nendif\nendif\nendif\nendif\n\ty\\\n\tz\n", RemoveLines (OfRecipe (Some 1) (codes "a") (ByNumber 1)), NotMade 0 Absent) ∷  -- rule-295
    (codes "ifdef Z\nelse\na: b; i\nelse\nendif\n\tx\n\tx\n\ty\\\n\tz\nendif", SetRecipe None (codes "a") (ByNumber 0) [], NotMade 1 Absent) ∷  -- rule-296
    (codes "a: b\na:\\\n c\nifdef A\r\n", RemoveLines (OfRecipe None (codes "a") (ByNumber 3)), NotMade 0 (Ambiguous 2)) ∷  -- rule-297
    (codes "ifdef Z\nelse\na:\nelse\nifdef A\nifdef A\r\n", AddLine (BeforeRule (Some 2) (codes "a")) (NewRule (codes "d") Double []), NotMade 1 NoSuch) ∷  -- rule-298
    (codes "a: b\n\tx\n\tx\nelse\n$(u)\n\tx", AddRecipe None (codes "a") Last (codes "w"), Accepted 1 0 (span 11 11 (codes "\tw\n") ∷ []) (Becomes (codes "a: b\n\tx\n\tx\n\tw\nelse\n$(u)\n\tx"))) ∷  -- rule-299
    (codes "ifdef Z\na: b\nifdef A\n\tx\n\tx\nelse\n\tx\n", AddLine (BeforeVar None (codes "X")) (NewAssign (codes "N") Conditional []), NotMade 1 NoSuch) ∷  -- rule-300
    (codes "X =\\\n  \\\n b\\\na$\\\n\n", ChangeValue (One None) (codes "X") (edits.Append (codes ")#")), NotMade 1 (BadArgument field.Value)) ∷  -- fold-001
    (codes "X :=$(a # c\n", ChangeValue (One None) (codes "X") (edits.Append (codes "$$")), NotMade 1 OpenValue) ∷  -- fold-002
    (codes "X =\\\n \nY=1\n", ChangeValue (One None) (codes "X") (edits.Set (codes "b")), Accepted 1 1 (span 6 6 (codes "b") ∷ []) (Becomes (codes "X =\\\n b\nY=1\n"))) ∷  -- fold-003
    (codes "X =  \\\n#$", RemoveLines (OfAssign None (codes "X")), Accepted 0 1 (span 0 9 [] ∷ []) (Becomes [])) ∷  -- fold-004
    (codes "a:\\\n\\\n\nY=1\n", RenameTarget (codes "a") (codes "d"), Accepted 1 1 (span 0 1 (codes "d") ∷ []) (Becomes (codes "d:\\\n\\\n\nY=1\n"))) ∷  -- fold-005
    (codes "a:$\r\n", AddRecipe None (codes "a") Last (codes "w"), NotMade 1 NoSuch) ∷  -- fold-006
    (codes "A=1\r\nX =\\\n \n", ChangeValue (One None) (codes "X") (edits.Set []), Accepted 1 1 (span 11 11 [] ∷ []) (Becomes (codes "A=1\r\nX =\\\n \n"))) ∷  -- fold-007
    (codes "X =  # c\n", ChangeValue (One None) (codes "X") (edits.Append (codes "\\:")), Accepted 1 1 (span 5 5 (codes "\\:") ∷ []) (Becomes (codes "X =  \\:# c\n"))) ∷  -- fold-008
    (codes "A=1\r\nX := $\\\n\n", ChangeValue (One None) (codes "X") (edits.Set []), Accepted 1 1 (span 10 13 [] ∷ []) (Becomes (codes "A=1\r\nX := \n"))) ∷  -- fold-009
    (codes "X = a#$(a \n", ChangeValue (One None) (codes "X") (edits.Append (codes "b")), Accepted 1 1 (span 5 5 (codes " b") ∷ []) (Becomes (codes "X = a b#$(a \n"))) ∷  -- fold-010
    (codes "A=1\r\nX=\\\r\na\\\\a\\\n", ChangeValue (One None) (codes "X") (edits.Append (codes "b")), NotMade 1 OpenValue) ∷  -- fold-011
    (codes "X=", RemoveLines (OfAssign None (codes "X")), Accepted 0 1 (span 0 2 [] ∷ []) (Becomes [])) ∷  -- fold-012
    (codes "A=1\r\nX =\\\n \\\n\\\na\r\n", ChangeValue (One None) (codes "X") (edits.Set []), Accepted 1 1 (span 15 16 [] ∷ []) (Becomes (codes "A=1\r\nX =\\\n \\\n\\\n\r\n"))) ∷  -- fold-013
    (codes "X :=\\\na\\\n\n\n", RemoveLines (OfAssign None (codes "X")), Accepted 0 1 (span 0 10 [] ∷ []) (Becomes (codes "\n"))) ∷  -- fold-014
    (codes "X = \\\n\\\\\n # c", ChangeValue (One None) (codes "X") (edits.Set []), Accepted 1 1 (span 6 8 [] ∷ []) (Becomes (codes "X = \\\n\n # c"))) ∷  -- fold-015
    (codes "X = \\\n$(a$\\\n \nY=1", AddLine Bottom (NewAssign (codes "Z") Recursive []), Accepted 1 0 (span 17 17 (codes "\nZ =\n") ∷ []) (Becomes (codes "X = \\\n$(a$\\\n \nY=1\nZ =\n"))) ∷  -- fold-016
    (codes "X =\\\n b#\\$", ChangeValue (One None) (codes "X") (edits.Set (codes "$$")), Accepted 1 1 (span 6 7 (codes "$$") ∷ []) (Becomes (codes "X =\\\n $$#\\$"))) ∷  -- fold-017
    (codes "X :=\\ # c\n", ChangeValue (One None) (codes "X") (edits.Set []), Accepted 1 1 (span 4 6 [] ∷ []) (Becomes (codes "X :=# c\n"))) ∷  -- fold-018
    (codes "A=1\r\nX = \\\n\nY=1\n", RemoveLines (OfAssign None (codes "X")), Accepted 0 1 (span 5 12 [] ∷ []) (Becomes (codes "A=1\r\nY=1\n"))) ∷  -- fold-019
    (codes "a: \\\r\n\\\n \\\n # c", ChangePrereqs None (codes "a") (AddPrereq true (codes "b")), Accepted 1 1 (span 2 2 (codes " | b") ∷ []) (Becomes (codes "a: | b \\\r\n\\\n \\\n # c"))) ∷  -- fold-020
    (codes "A=1\r\nX =\\\n \\\n", ChangeValue (One None) (codes "X") (edits.Set []), Accepted 1 1 (span 11 12 [] ∷ []) (Becomes (codes "A=1\r\nX =\\\n \n"))) ∷  -- fold-021
    (codes "X = \\\n$(a$(a$b", ChangeValue (One None) (codes "X") (edits.Append (codes "b")), NotMade 1 OpenValue) ∷  -- fold-022
    (codes "X=\\\r\n  \\\n \\\n\t\\\nY=1\n", ChangeValue (One None) (codes "X") (edits.Append (codes ")#")), NotMade 1 (BadArgument field.Value)) ∷  -- fold-023
    (codes "X = b$$\\\n\t$\\\n \nY=1", AddLine Bottom (NewAssign (codes "Z") Recursive []), Accepted 1 0 (span 18 18 (codes "\nZ =\n") ∷ []) (Becomes (codes "X = b$$\\\n\t$\\\n \nY=1\nZ =\n"))) ∷  -- fold-024
    (codes "A=1\r\nX= \\\n\\\n # c", ChangeValue (One None) (codes "X") (edits.Set []), Accepted 1 1 (span 13 13 [] ∷ []) (Becomes (codes "A=1\r\nX= \\\n\\\n # c"))) ∷  -- fold-025
    (codes "X = )\\\n\n", RemoveLines (OfAssign None (codes "X")), Accepted 0 1 (span 0 8 [] ∷ []) (Becomes [])) ∷  -- fold-026
    (codes "A=1\r\nX :=a$", ChangeValue (One None) (codes "X") (edits.Set []), Accepted 1 1 (span 9 11 [] ∷ []) (Becomes (codes "A=1\r\nX :="))) ∷  -- fold-027
    (codes "X=\\\n\t", ChangeValue (One None) (codes "X") (edits.Append (codes "b")), Accepted 1 1 (span 5 5 (codes "b") ∷ []) (Becomes (codes "X=\\\n\tb"))) ∷  -- fold-028
    (codes "a : bb b \nY=1\n", ChangePrereqs None (codes "a") (RemovePrereq (codes "a")), NotMade 1 Absent) ∷  -- fold-029
    (codes "X = \\\n\\\n", AddLine Bottom (NewAssign (codes "Z") Recursive []), NotMade 1 OpenLine) ∷  -- fold-030
    []

answers_11 : map (λ row. account row.0 row.1) rows_11 ≡ map (λ row. row.2) rows_11
answers_11 = refl

abbrev rows_12 : List (List ℕ × Edit × Account)
rows_12 =
    (codes "X=\\\r\nb # c\n", ChangeValue (One None) (codes "X") (edits.Set []), Accepted 1 1 (span 5 7 [] ∷ []) (Becomes (codes "X=\\\r\n# c\n"))) ∷  -- fold-031
    (codes "X=\\\r\n\\\n\t\\\r\n)\n\n", ChangeValue (One None) (codes "X") (edits.Set []), Accepted 1 1 (span 11 12 [] ∷ []) (Becomes (codes "X=\\\r\n\\\n\t\\\r\n\n\n"))) ∷  -- fold-032
    (codes "A=1\r\nX=b)\\\n # c", ChangeValue (One None) (codes "X") (edits.Set []), Accepted 1 1 (span 7 12 [] ∷ []) (Becomes (codes "A=1\r\nX=# c"))) ∷  -- fold-033
    (codes "A=1\r\nX = \\\n\n", AddLine Bottom (NewAssign (codes "Z") Recursive []), Accepted 1 0 (span 12 12 (codes "Z =\r\n") ∷ []) (Becomes (codes "A=1\r\nX = \\\n\nZ =\r\n"))) ∷  -- fold-034
    (codes "a:\\\\\\ b \\\\$\\\n\n", RenameTarget (codes "b") (codes "d"), NotMade 0 NoSuch) ∷  -- fold-035
    (codes "a:\\\n\n", AddRecipe None (codes "a") Last (codes "w"), Accepted 1 0 (span 5 5 (codes "\tw\n") ∷ []) (Becomes (codes "a:\\\n\n\tw\n"))) ∷  -- fold-036
    (codes "A=1\r\nX=\\\r\n) \\\n b\\\n\n\n", AddLine Bottom (NewAssign (codes "Z") Recursive []), Accepted 1 0 (span 20 20 (codes "Z =\r\n") ∷ []) (Becomes (codes "A=1\r\nX=\\\r\n) \\\n b\\\n\n\nZ =\r\n"))) ∷  -- fold-037
    (codes "a: \n\n", ChangePrereqs None (codes "a") (RemovePrereq (codes "a")), NotMade 1 Absent) ∷  -- fold-038
    (codes "a:  b $\\\n \nY=1", ChangePrereqs None (codes "a") (AddPrereq true (codes "c")), NotMade 1 NoSuch) ∷  -- fold-039
    (codes "a:|\\\n\\\n\n", ChangePrereqs None (codes "a") (AddPrereq true (codes "$|")), Accepted 1 1 (span 3 3 (codes " $|") ∷ []) (Becomes (codes "a:| $|\\\n\\\n\n"))) ∷  -- fold-040
    (codes "A=1\r\nX=\\\n\n", ChangeValue (One None) (codes "X") (edits.Append (codes "b")), Accepted 1 1 (span 9 9 (codes "b") ∷ []) (Becomes (codes "A=1\r\nX=\\\nb\n"))) ∷  -- fold-041
    (codes "X=\\\r\n\\\n", RemoveLines (OfAssign None (codes "X")), Accepted 0 1 (span 0 7 [] ∷ []) (Becomes [])) ∷  -- fold-042
    (codes "a:\\\na$b\\\n\n", ChangePrereqs None (codes "a") (AddPrereq false (codes "$|")), Accepted 1 1 (span 7 7 (codes " $|") ∷ []) (Becomes (codes "a:\\\na$b $|\\\n\n"))) ∷  -- fold-043
    (codes "A=1\r\nX = \\\n \\\n $\\\n \nY=1", ChangeValue (One None) (codes "X") (edits.Set (codes "a\\:")), Accepted 1 1 (span 15 19 (codes "a\\:") ∷ []) (Becomes (codes "A=1\r\nX = \\\n \\\n a\\:\nY=1"))) ∷  -- fold-044
    (codes "X = \\\n\\\n\t", ChangeValue (One None) (codes "X") (edits.Set (codes "$$")), Accepted 1 1 (span 9 9 (codes "$$") ∷ []) (Becomes (codes "X = \\\n\\\n\t$$"))) ∷  -- fold-045
    (codes "a:|b$\\\n\n", ChangePrereqs None (codes "a") (AddPrereq true (codes "c")), NotMade 1 NoSuch) ∷  -- fold-046
    (codes "X = $(a \\\n \\\n\t\\\\\n", ChangeValue (One None) (codes "X") (edits.Append (codes "b")), NotMade 1 OpenValue) ∷  -- fold-047
    (codes "X=\\\r\n$\\\n\n", RemoveLines (OfAssign None (codes "X")), Accepted 0 1 (span 0 9 [] ∷ []) (Becomes [])) ∷  -- fold-048
    (codes "A=1\r\nX=\\\r\n$\\\n \nY=1", ChangeValue (One None) (codes "X") (edits.Append (codes ")#")), NotMade 1 (BadArgument field.Value)) ∷  -- fold-049
    (codes "X=\\\r\n$\\\n\n", ChangeValue (One None) (codes "X") (edits.Set (codes "a\\:")), Accepted 1 1 (span 5 8 (codes "a\\:") ∷ []) (Becomes (codes "X=\\\r\na\\:\n"))) ∷  -- fold-050
    (codes "a: \\\n\tb\\\n\\\n\n", RenameTarget (codes "b") (codes "d"), NotMade 1 NoSuch) ∷  -- fold-051
    (codes "a:|\\\\\n # c", ChangePrereqs None (codes "a") (AddPrereq false (codes "b")), NotMade 1 NoSuch) ∷  -- fold-052
    (codes "X = \\\n\\a\\\n\n", ChangeValue (One None) (codes "X") (edits.Set []), Accepted 1 1 (span 6 10 [] ∷ []) (Becomes (codes "X = \\\n\n"))) ∷  -- fold-053
    (codes "a:\\\n#\\\n\t\\\n", ChangePrereqs None (codes "a") (AddPrereq false (codes "$|")), Accepted 1 1 (span 2 2 (codes " $|") ∷ []) (Becomes (codes "a: $|\\\n#\\\n\t\\\n"))) ∷  -- fold-054
    (codes "A=1\r\nX=\\\r\n#)$\\\n\n", ChangeValue (One None) (codes "X") (edits.Set (codes "$$")), Accepted 1 1 (span 10 10 (codes "$$") ∷ []) (Becomes (codes "A=1\r\nX=\\\r\n$$#)$\\\n\n"))) ∷  -- fold-055
    (codes "a : b\\\\\na\nY=1\n", ChangePrereqs None (codes "a") (RemovePrereq (codes "a")), NotMade 1 NoSuch) ∷  -- fold-056
    (codes "X = \\\n\\\r\n", ChangeValue (One None) (codes "X") (edits.Set []), Accepted 1 1 (span 6 7 [] ∷ []) (Becomes (codes "X = \\\n\r\n"))) ∷  -- fold-057
    (codes "a: \\\r\n\r\n", ChangePrereqs None (codes "a") (RemovePrereq (codes "a")), NotMade 1 Absent) ∷  -- fold-058
    (codes "X=\\\r\na # c\n", ChangeValue (One None) (codes "X") (edits.Append (codes "b")), Accepted 1 1 (span 6 6 (codes " b") ∷ []) (Becomes (codes "X=\\\r\na b # c\n"))) ∷  -- fold-059
    (codes "X= # c\n", ChangeValue (One None) (codes "X") (edits.Append (codes "\\:")), Accepted 1 1 (span 3 3 (codes "\\:") ∷ []) (Becomes (codes "X= \\:# c\n"))) ∷  -- fold-060
    (codes "A=1\r\nX = \\\r\n#\\\n\\\n\\\n", ChangeValue (One None) (codes "X") (edits.Set []), Accepted 1 1 (span 12 12 [] ∷ []) (Becomes (codes "A=1\r\nX = \\\r\n#\\\n\\\n\\\n"))) ∷  -- fold-061
    (codes "X=\\\r\na$\\\n\t \\\n $\\\n\n", ChangeValue (One None) (codes "X") (edits.Set (codes "b")), Accepted 1 1 (span 5 17 (codes "b") ∷ []) (Becomes (codes "X=\\\r\nb\n"))) ∷  -- fold-062
    (codes "a: b | \\\n ", AddRecipe None (codes "a") Last (codes "w"), Accepted 1 0 (span 10 10 (codes "\n\tw\n") ∷ []) (Becomes (codes "a: b | \\\n \n\tw\n"))) ∷  -- fold-063
    (codes "X =\\\n \\\n\t\\\n\\\\\\\n", ChangeValue (One None) (codes "X") (edits.Set (codes "b")), Accepted 1 1 (span 11 14 (codes "b") ∷ []) (Becomes (codes "X =\\\n \\\n\t\\\nb\n"))) ∷  -- fold-064
    (codes "a:  b  \\\n $\\\n \nY=1", ChangePrereqs None (codes "a") (RemovePrereq (codes "b")), NotMade 1 NoSuch) ∷  -- fold-065
    (codes "X = \\\nbb\\\r\n\n", RemoveLines (OfAssign None (codes "X")), Accepted 0 1 (span 0 12 [] ∷ []) (Becomes [])) ∷  -- fold-066
    (codes "X=a$)$\n\n", ChangeValue (One None) (codes "X") (edits.Set (codes "$$")), Accepted 1 1 (span 2 6 (codes "$$") ∷ []) (Becomes (codes "X=$$\n\n"))) ∷  -- fold-067
    (codes "X :=\\\nY=1\n", ChangeValue (One None) (codes "X") (edits.Append (codes "b")), Accepted 1 1 (span 9 9 (codes " b") ∷ []) (Becomes (codes "X :=\\\nY=1 b\n"))) ∷  -- fold-068
    (codes "X = \\\n$(a # c\n", ChangeValue (One None) (codes "X") (edits.Set []), Accepted 1 1 (span 6 13 [] ∷ []) (Becomes (codes "X = \\\n\n"))) ∷  -- fold-069
    (codes "A=1\r\nX=\\\r\n\nY=1\n", ChangeValue (One None) (codes "X") (edits.Append (codes "b")), Accepted 1 1 (span 10 10 (codes "b") ∷ []) (Becomes (codes "A=1\r\nX=\\\r\nb\nY=1\n"))) ∷  -- fold-070
    (codes "X=$$#\n", ChangeValue (One None) (codes "X") (edits.Set (codes "b")), Accepted 1 1 (span 2 4 (codes "b") ∷ []) (Becomes (codes "X=b#\n"))) ∷  -- fold-071
    (codes "X = \\\n\n", ChangeValue (One None) (codes "X") (edits.Set []), Accepted 1 1 (span 6 6 [] ∷ []) (Becomes (codes "X = \\\n\n"))) ∷  -- fold-072
    (codes "X := ", ChangeValue (One None) (codes "X") (edits.Set (codes "$$")), Accepted 1 1 (span 5 5 (codes "$$") ∷ []) (Becomes (codes "X := $$"))) ∷  -- fold-073
    (codes "X=\\\r\n \\\n  # c\n", ChangeValue (One None) (codes "X") (edits.Append (codes "\\:")), Accepted 1 1 (span 10 10 (codes "\\:") ∷ []) (Becomes (codes "X=\\\r\n \\\n  \\:# c\n"))) ∷  -- fold-074
    (codes "X=\\\r\n \\\n \\\\\\\n", ChangeValue (One None) (codes "X") (edits.Set []), Accepted 1 1 (span 9 12 [] ∷ []) (Becomes (codes "X=\\\r\n \\\n \n"))) ∷  -- fold-075
    (codes "A=1\r\nX=\\\r\na$(a \\\n\\\n", ChangeValue (One None) (codes "X") (edits.Append (codes "\\:")), NotMade 1 OpenValue) ∷  -- fold-076
    (codes "a: \\\\\\\\$\n\n", AddRecipe None (codes "a") Last (codes "w"), NotMade 1 NoSuch) ∷  -- fold-077
    (codes "a:a$\\\n \nY=1", ChangePrereqs None (codes "a") (AddPrereq false (codes "c")), NotMade 1 NoSuch) ∷  -- fold-078
    (codes "a: b |#\\\n$\\\n", RenameTarget (codes "a") (codes "d"), Accepted 1 1 (span 0 1 (codes "d") ∷ []) (Becomes (codes "d: b |#\\\n$\\\n"))) ∷  -- fold-079
    (codes "A=1\r\nX :=\\\n\\\n", ChangeValue (One None) (codes "X") (edits.Set []), Accepted 1 1 (span 11 12 [] ∷ []) (Becomes (codes "A=1\r\nX :=\\\n\n"))) ∷  -- fold-080
    []

answers_12 : map (λ row. account row.0 row.1) rows_12 ≡ map (λ row. row.2) rows_12
answers_12 = refl

abbrev rows_13 : List (List ℕ × Edit × Account)
rows_13 =
    (codes "X=)  # c\n", ChangeValue (One None) (codes "X") (edits.Set []), Accepted 1 1 (span 2 5 [] ∷ []) (Becomes (codes "X=# c\n"))) ∷  -- fold-081
    (codes "a:|", ChangePrereqs None (codes "a") (AddPrereq false (codes "$|")), Accepted 1 1 (span 2 2 (codes " $| ") ∷ []) (Becomes (codes "a: $| |"))) ∷  -- fold-082
    (codes "X = $(a\n\n", RemoveLines (OfAssign None (codes "X")), Accepted 0 1 (span 0 8 [] ∷ []) (Becomes (codes "\n"))) ∷  -- fold-083
    (codes "X= \\\n\\\r\n\\\\\nY=1\n", ChangeValue (One None) (codes "X") (edits.Append (codes "b")), Accepted 1 1 (span 10 10 (codes " b") ∷ []) (Becomes (codes "X= \\\n\\\r\n\\\\ b\nY=1\n"))) ∷  -- fold-084
    (codes "X=b\\\n\n", ChangeValue (One None) (codes "X") (edits.Set (codes "$$")), Accepted 1 1 (span 2 3 (codes "$$") ∷ []) (Becomes (codes "X=$$\\\n\n"))) ∷  -- fold-085
    (codes "a:|\\\n", ChangePrereqs None (codes "a") (RemovePrereq (codes "b")), NotMade 1 NoSuch) ∷  -- fold-086
    (codes "X=b\n", ChangeValue (One None) (codes "X") (edits.Set (codes "$$")), Accepted 1 1 (span 2 3 (codes "$$") ∷ []) (Becomes (codes "X=$$\n"))) ∷  -- fold-087
    (codes "A=1\r\nX=\\\n\r\n", RemoveLines (OfAssign None (codes "X")), Accepted 0 1 (span 5 11 [] ∷ []) (Becomes (codes "A=1\r\n"))) ∷  -- fold-088
    (codes "X = \nY=1\n", ChangeValue (One None) (codes "X") (edits.Append (codes "b")), Accepted 1 1 (span 4 4 (codes "b") ∷ []) (Becomes (codes "X = b\nY=1\n"))) ∷  -- fold-089
    (codes "a: $$\\\n \nY=1", RenameTarget (codes "a") (codes "d"), Accepted 1 1 (span 0 1 (codes "d") ∷ []) (Becomes (codes "d: $$\\\n \nY=1"))) ∷  -- fold-090
    (codes "X :=\\\n\t\n", ChangeValue (One None) (codes "X") (edits.Append (codes "b")), Accepted 1 1 (span 7 7 (codes "b") ∷ []) (Becomes (codes "X :=\\\n\tb\n"))) ∷  -- fold-091
    (codes "A=1\r\nX = $(ab \\\n \n", ChangeValue (One None) (codes "X") (edits.Append (codes ")#")), NotMade 1 (BadArgument field.Value)) ∷  -- fold-092
    (codes "A=1\r\nX = \\\na ", ChangeValue (One None) (codes "X") (edits.Set (codes "b")), Accepted 1 1 (span 11 12 (codes "b") ∷ []) (Becomes (codes "A=1\r\nX = \\\nb "))) ∷  -- fold-093
    (codes "X=\\\r\n\\\n\ta\\", AddLine Bottom (NewAssign (codes "Z") Recursive []), NotMade 1 OpenLine) ∷  -- fold-094
    (codes "a:\\\n\\\n\t \\\n  \\\n\t", AddRecipe None (codes "a") Last (codes "w"), Accepted 1 0 (span 15 15 (codes "\n\tw\n") ∷ []) (Becomes (codes "a:\\\n\\\n\t \\\n  \\\n\t\n\tw\n"))) ∷  -- fold-095
    (codes "A=1\r\nX :=)\n\n", ChangeValue (One None) (codes "X") (edits.Set []), Accepted 1 1 (span 9 10 [] ∷ []) (Becomes (codes "A=1\r\nX :=\n\n"))) ∷  -- fold-096
    (codes "X =\\\n $", AddLine Bottom (NewAssign (codes "Z") Recursive []), Accepted 1 0 (span 7 7 (codes "\nZ =\n") ∷ []) (Becomes (codes "X =\\\n $\nZ =\n"))) ∷  -- fold-097
    (codes "A=1\r\nX=\\\r\n$\\\n\n", AddLine Bottom (NewAssign (codes "Z") Recursive []), Accepted 1 0 (span 14 14 (codes "Z =\r\n") ∷ []) (Becomes (codes "A=1\r\nX=\\\r\n$\\\n\nZ =\r\n"))) ∷  -- fold-098
    (codes "a: )$\\\n\n", RenameTarget (codes "a") (codes "d"), NotMade 0 NoSuch) ∷  -- fold-099
    (codes "X :=\\\n\n", ChangeValue (One None) (codes "X") (edits.Append (codes "b")), Accepted 1 1 (span 6 6 (codes "b") ∷ []) (Becomes (codes "X :=\\\nb\n"))) ∷  -- fold-100
    (codes "a: a\\\n\\\n\\\n\n", RenameTarget (codes "b") (codes "d"), NotMade 0 NoSuch) ∷  -- fold-101
    (codes "X =\\\n $$\n\n", ChangeValue (One None) (codes "X") (edits.Set []), Accepted 1 1 (span 6 8 [] ∷ []) (Becomes (codes "X =\\\n \n\n"))) ∷  -- fold-102
    (codes "a:\\\n\\\n", AddRecipe None (codes "a") Last (codes "w"), NotMade 1 NoSuch) ∷  -- fold-103
    (codes "X = $(a\\\na$(a$\\\n \nY=1", ChangeValue (One None) (codes "X") (edits.Append (codes "$$")), NotMade 1 OpenValue) ∷  -- fold-104
    (codes "A=1\r\nX :=\\\r\n \\\n \\\\\\$\\\n \nY=1", ChangeValue (One None) (codes "X") (edits.Append (codes "$$")), Accepted 1 1 (span 23 23 (codes " $$") ∷ []) (Becomes (codes "A=1\r\nX :=\\\r\n \\\n \\\\\\$\\\n  $$\nY=1"))) ∷  -- fold-105
    (codes "X = \\\n ", ChangeValue (One None) (codes "X") (edits.Set (codes "b")), Accepted 1 1 (span 7 7 (codes "b") ∷ []) (Becomes (codes "X = \\\n b"))) ∷  -- fold-106
    (codes "a:|\\\n", ChangePrereqs None (codes "a") (AddPrereq false (codes "b")), NotMade 1 NoSuch) ∷  -- fold-107
    (codes "a:#\\\r\n", AddRecipe None (codes "a") Last (codes "w"), NotMade 1 OpenLine) ∷  -- fold-108
    (codes "A=1\r\nX = \\\n\r\n", ChangeValue (One None) (codes "X") (edits.Set (codes "a\\:")), Accepted 1 1 (span 11 11 (codes "a\\:") ∷ []) (Becomes (codes "A=1\r\nX = \\\na\\:\r\n"))) ∷  -- fold-109
    (codes "X :=\\\r\n", ChangeValue (One None) (codes "X") (edits.Append (codes "b")), NotMade 1 OpenValue) ∷  -- fold-110
    (codes "a:\\\\  b ", RenameTarget (codes "b") (codes "d"), NotMade 0 NoSuch) ∷  -- fold-111
    (codes "X = \\", ChangeValue (One None) (codes "X") (edits.Set []), Accepted 1 1 (span 4 5 [] ∷ []) (Becomes (codes "X = "))) ∷  -- fold-112
    (codes "X = \\\n", ChangeValue (One None) (codes "X") (edits.Set (codes "$$")), Accepted 1 1 (span 4 5 (codes "$$") ∷ []) (Becomes (codes "X = $$\n"))) ∷  -- fold-113
    (codes "A=1\r\nX = \\\n\t", RemoveLines (OfAssign None (codes "X")), Accepted 0 1 (span 5 12 [] ∷ []) (Becomes (codes "A=1\r\n"))) ∷  -- fold-114
    (codes "a: #\\\r\n\\\r\n\n\n", AddRecipe None (codes "a") Last (codes "w"), Accepted 1 0 (span 11 11 (codes "\tw\r\n") ∷ []) (Becomes (codes "a: #\\\r\n\\\r\n\n\tw\r\n\n"))) ∷  -- fold-115
    (codes "A=1\r\nX=a)#\\\n\t$\\\n \nY=1", ChangeValue (One None) (codes "X") (edits.Set (codes "$$")), Accepted 1 1 (span 7 9 (codes "$$") ∷ []) (Becomes (codes "A=1\r\nX=$$#\\\n\t$\\\n \nY=1"))) ∷  -- fold-116
    (codes "X = )\\\\\\\n\\\n\r\n", RemoveLines (OfAssign None (codes "X")), NotMade 0 NoSuch) ∷  -- fold-117
    (codes "X := \\\n\t", AddLine Bottom (NewAssign (codes "Z") Recursive []), Accepted 1 0 (span 8 8 (codes "\nZ =\n") ∷ []) (Becomes (codes "X := \\\n\t\nZ =\n"))) ∷  -- fold-118
    (codes "a: \n\n", RenameTarget (codes "a") (codes "d"), Accepted 1 1 (span 0 1 (codes "d") ∷ []) (Becomes (codes "d: \n\n"))) ∷  -- fold-119
    (codes "X =\\\n  # c\n", ChangeValue (One None) (codes "X") (edits.Set []), Accepted 1 1 (span 7 7 [] ∷ []) (Becomes (codes "X =\\\n  # c\n"))) ∷  -- fold-120
    (codes "a:$\\\n\n", RenameTarget (codes "b") (codes "d"), NotMade 0 NoSuch) ∷  -- fold-121
    (codes "a: b |\\\n # c\n", AddRecipe None (codes "a") Last (codes "w"), Accepted 1 0 (span 13 13 (codes "\tw\n") ∷ []) (Becomes (codes "a: b |\\\n # c\n\tw\n"))) ∷  -- fold-122
    (codes "A=1\r\nX=\\\r\n\\\n", ChangeValue (One None) (codes "X") (edits.Set []), Accepted 1 1 (span 10 11 [] ∷ []) (Becomes (codes "A=1\r\nX=\\\r\n\n"))) ∷  -- fold-123
    (codes "a: \\\n", ChangePrereqs None (codes "a") (AddPrereq false (codes "b")), NotMade 1 NoSuch) ∷  -- fold-124
    (codes "A=1\r\nX =\\\n $\\\n # c", ChangeValue (One None) (codes "X") (edits.Set (codes "b")), Accepted 1 1 (span 11 15 (codes "b") ∷ []) (Becomes (codes "A=1\r\nX =\\\n b# c"))) ∷  -- fold-125
    (codes "X =\\\n \\\n\t", ChangeValue (One None) (codes "X") (edits.Set []), Accepted 1 1 (span 9 9 [] ∷ []) (Becomes (codes "X =\\\n \\\n\t"))) ∷  -- fold-126
    (codes "A=1\r\nX = $\n", ChangeValue (One None) (codes "X") (edits.Set []), Accepted 1 1 (span 9 10 [] ∷ []) (Becomes (codes "A=1\r\nX = \n"))) ∷  -- fold-127
    (codes "X = #\\\n", ChangeValue (One None) (codes "X") (edits.Append (codes "b")), Accepted 1 1 (span 4 4 (codes "b") ∷ []) (Becomes (codes "X = b#\\\n"))) ∷  -- fold-128
    (codes "X = \\\n\t$\\\n \nY=1", RemoveLines (OfAssign None (codes "X")), Accepted 0 1 (span 0 12 [] ∷ []) (Becomes (codes "Y=1"))) ∷  -- fold-129
    (codes "a : b\\\\\\\n # c", ChangePrereqs None (codes "a") (RemovePrereq (codes "b")), NotMade 1 NoSuch) ∷  -- fold-130
    []

answers_13 : map (λ row. account row.0 row.1) rows_13 ≡ map (λ row. row.2) rows_13
answers_13 = refl

abbrev rows_14 : List (List ℕ × Edit × Account)
rows_14 =
    (codes "a:  \\\n ", RenameTarget (codes "a") (codes "d"), Accepted 1 1 (span 0 1 (codes "d") ∷ []) (Becomes (codes "d:  \\\n "))) ∷  -- fold-131
    (codes "X=\\\r\n#\\ \\\n \\\\\n\n", ChangeValue (One None) (codes "X") (edits.Set []), NotMade 1 NoSuch) ∷  -- fold-132
    (codes "a: \\\r\n", AddRecipe None (codes "a") Last (codes "w"), NotMade 1 NoSuch) ∷  -- fold-133
    (codes "X :=b\\\n", ChangeValue (One None) (codes "X") (edits.Append (codes "b")), NotMade 1 OpenValue) ∷  -- fold-134
    (codes "A=1\r\nX = \n", ChangeValue (One None) (codes "X") (edits.Set (codes "a\\:")), Accepted 1 1 (span 9 9 (codes "a\\:") ∷ []) (Becomes (codes "A=1\r\nX = a\\:\n"))) ∷  -- fold-135
    (codes "X :=\\\n\\\r\nb", ChangeValue (One None) (codes "X") (edits.Set []), Accepted 1 1 (span 9 10 [] ∷ []) (Becomes (codes "X :=\\\n\\\r\n"))) ∷  -- fold-136
    (codes "X =  \\\n $\\\n\n", ChangeValue (One None) (codes "X") (edits.Set []), Accepted 1 1 (span 8 11 [] ∷ []) (Becomes (codes "X =  \\\n \n"))) ∷  -- fold-137
    (codes "X :=\\\n \\\n \r\n", ChangeValue (One None) (codes "X") (edits.Set (codes "a\\:")), Accepted 1 1 (span 10 10 (codes "a\\:") ∷ []) (Becomes (codes "X :=\\\n \\\n a\\:\r\n"))) ∷  -- fold-138
    (codes "X = )\r\n", AddLine Bottom (NewAssign (codes "Z") Recursive []), Accepted 1 0 (span 7 7 (codes "Z =\r\n") ∷ []) (Becomes (codes "X = )\r\nZ =\r\n"))) ∷  -- fold-139
    (codes "X = \\\n\r\n", ChangeValue (One None) (codes "X") (edits.Append (codes "b")), Accepted 1 1 (span 6 6 (codes "b") ∷ []) (Becomes (codes "X = \\\nb\r\n"))) ∷  -- fold-140
    (codes "X =\\\n \\ \\\n \r\n", AddLine Bottom (NewAssign (codes "Z") Recursive []), Accepted 1 0 (span 13 13 (codes "Z =\n") ∷ []) (Becomes (codes "X =\\\n \\ \\\n \r\nZ =\n"))) ∷  -- fold-141
    (codes "X=\n", AddLine Bottom (NewAssign (codes "Z") Recursive []), Accepted 1 0 (span 3 3 (codes "Z =\n") ∷ []) (Becomes (codes "X=\nZ =\n"))) ∷  -- fold-142
    (codes "X :=\\\n\\\n", ChangeValue (One None) (codes "X") (edits.Append (codes "b")), NotMade 1 OpenValue) ∷  -- fold-143
    (codes "A=1\r\nX = a \\\n b\\\\\n", AddLine Bottom (NewAssign (codes "Z") Recursive []), Accepted 1 0 (span 18 18 (codes "Z =\r\n") ∷ []) (Becomes (codes "A=1\r\nX = a \\\n b\\\\\nZ =\r\n"))) ∷  -- fold-144
    (codes "X =\\\n ", ChangeValue (One None) (codes "X") (edits.Append (codes "b")), Accepted 1 1 (span 6 6 (codes "b") ∷ []) (Becomes (codes "X =\\\n b"))) ∷  -- fold-145
    (codes "A=1\r\nX :=$ \\\n \\\n\t$(a\\\n # c", AddLine Bottom (NewAssign (codes "Z") Recursive []), Accepted 1 0 (span 26 26 (codes "\r\nZ =\r\n") ∷ []) (Becomes (codes "A=1\r\nX :=$ \\\n \\\n\t$(a\\\n # c\r\nZ =\r\n"))) ∷  -- fold-146
    (codes "X =\\\n ba\r\n", ChangeValue (One None) (codes "X") (edits.Set []), Accepted 1 1 (span 6 8 [] ∷ []) (Becomes (codes "X =\\\n \r\n"))) ∷  -- fold-147
    (codes "X :=\\\r\n\\\n\t", ChangeValue (One None) (codes "X") (edits.Append (codes "$$")), Accepted 1 1 (span 10 10 (codes "$$") ∷ []) (Becomes (codes "X :=\\\r\n\\\n\t$$"))) ∷  -- fold-148
    (codes "A=1\r\nX :=$\\\n \nY=1", AddLine Bottom (NewAssign (codes "Z") Recursive []), Accepted 1 0 (span 17 17 (codes "\r\nZ =\r\n") ∷ []) (Becomes (codes "A=1\r\nX :=$\\\n \nY=1\r\nZ =\r\n"))) ∷  -- fold-149
    (codes "X = \\\n\ta\n", ChangeValue (One None) (codes "X") (edits.Set (codes "$$")), Accepted 1 1 (span 7 8 (codes "$$") ∷ []) (Becomes (codes "X = \\\n\t$$\n"))) ∷  -- fold-150
    (codes "X=\\\r\n\\\n", ChangeValue (One None) (codes "X") (edits.Append (codes "$$")), NotMade 1 OpenValue) ∷  -- fold-151
    (codes "A=1\r\nX := \\\n \nY=1\n", ChangeValue (One None) (codes "X") (edits.Append (codes "b")), Accepted 1 1 (span 13 13 (codes "b") ∷ []) (Becomes (codes "A=1\r\nX := \\\n b\nY=1\n"))) ∷  -- fold-152
    (codes "a:\\\n \\\n b\n", RenameTarget (codes "b") (codes "d"), NotMade 1 NoSuch) ∷  -- fold-153
    (codes "a:\\\n\\\\  \\\n ", ChangePrereqs None (codes "a") (AddPrereq false (codes "$|")), NotMade 1 NoSuch) ∷  -- fold-154
    (codes "X =\\\n \\\n", ChangeValue (One None) (codes "X") (edits.Set (codes "$$")), Accepted 1 1 (span 6 7 (codes "$$") ∷ []) (Becomes (codes "X =\\\n $$\n"))) ∷  -- fold-155
    (codes "X= \\\n $\\\n\nY=1\n", ChangeValue (One None) (codes "X") (edits.Set []), Accepted 1 1 (span 6 9 [] ∷ []) (Becomes (codes "X= \\\n \nY=1\n"))) ∷  -- fold-156
    (codes "a: b |\\\\\n\n\n", AddRecipe None (codes "a") Last (codes "w"), NotMade 1 NoSuch) ∷  -- fold-157
    (codes "A=1\r\nX=\\\r\n\\\r\n\\$\\\n \nY=1", ChangeValue (One None) (codes "X") (edits.Set []), Accepted 1 1 (span 13 18 [] ∷ []) (Becomes (codes "A=1\r\nX=\\\r\n\\\r\n\nY=1"))) ∷  -- fold-158
    (codes "X :=\n\n", AddLine Bottom (NewAssign (codes "Z") Recursive []), Accepted 1 0 (span 6 6 (codes "Z =\n") ∷ []) (Becomes (codes "X :=\n\nZ =\n"))) ∷  -- fold-159
    (codes "a: b | $\\\n # c", RenameTarget (codes "b") (codes "d"), NotMade 0 NoSuch) ∷  -- fold-160
    (codes "A=1\r\nX = \\\n\\\n\\\r\n\\\n\\\r\n\r\n", RemoveLines (OfAssign None (codes "X")), Accepted 0 1 (span 5 23 [] ∷ []) (Becomes (codes "A=1\r\n"))) ∷  -- fold-161
    (codes "X :=$\\\n \nY=1", ChangeValue (One None) (codes "X") (edits.Set []), Accepted 1 1 (span 4 8 [] ∷ []) (Becomes (codes "X :=\nY=1"))) ∷  -- fold-162
    (codes "X=\\\n\\\n", AddLine Bottom (NewAssign (codes "Z") Recursive []), NotMade 1 OpenLine) ∷  -- fold-163
    (codes "A=1\r\nX=\\\r\n\\\r\n", ChangeValue (One None) (codes "X") (edits.Append (codes "\\:")), NotMade 1 OpenValue) ∷  -- fold-164
    (codes "a: )\\\n\t#\r\n", ChangePrereqs None (codes "a") (RemovePrereq (codes "b")), NotMade 1 Absent) ∷  -- fold-165
    (codes "X = \\\n\\\nb$(a", ChangeValue (One None) (codes "X") (edits.Set []), Accepted 1 1 (span 8 12 [] ∷ []) (Becomes (codes "X = \\\n\\\n"))) ∷  -- fold-166
    (codes "A=1\r\nX =\\\n \\\r\n", AddLine Bottom (NewAssign (codes "Z") Recursive []), NotMade 1 OpenLine) ∷  -- fold-167
    (codes "X =\\\n \r\n", ChangeValue (One None) (codes "X") (edits.Set (codes "b")), Accepted 1 1 (span 6 6 (codes "b") ∷ []) (Becomes (codes "X =\\\n b\r\n"))) ∷  -- fold-168
    (codes "X=\\\n$(a", ChangeValue (One None) (codes "X") (edits.Append (codes "b")), NotMade 1 OpenValue) ∷  -- fold-169
    (codes "X=\\\n\\\nb)$\\\n \nY=1", ChangeValue (One None) (codes "X") (edits.Append (codes "b")), Accepted 1 1 (span 12 12 (codes " b") ∷ []) (Becomes (codes "X=\\\n\\\nb)$\\\n  b\nY=1"))) ∷  -- fold-170
    (codes "a : ba\\\n\\\\ b \nY=1\n", AddRecipe None (codes "a") Last (codes "w"), NotMade 1 NoSuch) ∷  -- fold-171
    (codes "A=1\r\nX = ))\\", ChangeValue (One None) (codes "X") (edits.Set []), Accepted 1 1 (span 9 12 [] ∷ []) (Becomes (codes "A=1\r\nX = "))) ∷  -- fold-172
    (codes "X = \\\n \\\n $ \\\n  \n\n", AddLine Bottom (NewAssign (codes "Z") Recursive []), Accepted 1 0 (span 18 18 (codes "Z =\n") ∷ []) (Becomes (codes "X = \\\n \\\n $ \\\n  \n\nZ =\n"))) ∷  -- fold-173
    (codes "X = \\\na", ChangeValue (One None) (codes "X") (edits.Append (codes "b")), Accepted 1 1 (span 7 7 (codes " b") ∷ []) (Becomes (codes "X = \\\na b"))) ∷  -- fold-174
    (codes "X=a\\\n\n", ChangeValue (One None) (codes "X") (edits.Set []), Accepted 1 1 (span 2 5 [] ∷ []) (Becomes (codes "X=\n"))) ∷  -- fold-175
    (codes "X = \\\n\\\\\\\n", AddLine Bottom (NewAssign (codes "Z") Recursive []), NotMade 1 OpenLine) ∷  -- fold-176
    (codes "A=1\r\nX =\\\n \\\\\n\n", ChangeValue (One None) (codes "X") (edits.Set []), Accepted 1 1 (span 11 13 [] ∷ []) (Becomes (codes "A=1\r\nX =\\\n \n\n"))) ∷  -- fold-177
    (codes "X = \\\na\\\\\\\n\\\n\nY=1\n", ChangeValue (One None) (codes "X") (edits.Append (codes "\\:")), NotMade 1 NoSuch) ∷  -- fold-178
    (codes "X=\\\r\n", ChangeValue (One None) (codes "X") (edits.Append (codes "b")), NotMade 1 OpenValue) ∷  -- fold-179
    (codes "X = \\\r\n\nY=1\n", ChangeValue (One None) (codes "X") (edits.Set []), Accepted 1 1 (span 7 7 [] ∷ []) (Becomes (codes "X = \\\r\n\nY=1\n"))) ∷  -- fold-180
    []

answers_14 : map (λ row. account row.0 row.1) rows_14 ≡ map (λ row. row.2) rows_14
answers_14 = refl

abbrev rows_15 : List (List ℕ × Edit × Account)
rows_15 =
    (codes "X = \\\n#\\#\n", ChangeValue (One None) (codes "X") (edits.Set []), Accepted 1 1 (span 6 6 [] ∷ []) (Becomes (codes "X = \\\n#\\#\n"))) ∷  -- fold-181
    (codes "X=\\\r\n\\)\\\n\n", ChangeValue (One None) (codes "X") (edits.Set (codes "$$")), Accepted 1 1 (span 5 7 (codes "$$") ∷ []) (Becomes (codes "X=\\\r\n$$\\\n\n"))) ∷  -- fold-182
    (codes "a: \\\n\n", RenameTarget (codes "a") (codes "d"), Accepted 1 1 (span 0 1 (codes "d") ∷ []) (Becomes (codes "d: \\\n\n"))) ∷  -- fold-183
    (codes "X=#$(a#", ChangeValue (One None) (codes "X") (edits.Set []), Accepted 1 1 (span 2 2 [] ∷ []) (Becomes (codes "X=#$(a#"))) ∷  -- fold-184
    (codes "a: \\\\\nY=1\n", AddRecipe None (codes "a") Last (codes "w"), NotMade 1 NoSuch) ∷  -- fold-185
    (codes "a:\\\n\t", ChangePrereqs None (codes "a") (RemovePrereq (codes "a")), NotMade 1 Absent) ∷  -- fold-186
    (codes "X = \\\n$", ChangeValue (One None) (codes "X") (edits.Append (codes "b")), NotMade 1 OpenValue) ∷  -- fold-187
    (codes "X=\\\r\na\\\n\n", ChangeValue (One None) (codes "X") (edits.Set (codes "a\\:")), Accepted 1 1 (span 5 6 (codes "a\\:") ∷ []) (Becomes (codes "X=\\\r\na\\:\\\n\n"))) ∷  -- fold-188
    (codes "a:)\nY=1\n", AddRecipe None (codes "a") Last (codes "w"), Accepted 1 0 (span 4 4 (codes "\tw\n") ∷ []) (Becomes (codes "a:)\n\tw\nY=1\n"))) ∷  -- fold-189
    (codes "a:b\\\\ \\\n\nY=1\n", RenameTarget (codes "b") (codes "d"), NotMade 0 NoSuch) ∷  -- fold-190
    (codes "X=\\\r\n$$\\\n \nY=1", RemoveLines (OfAssign None (codes "X")), Accepted 0 1 (span 0 11 [] ∷ []) (Becomes (codes "Y=1"))) ∷  -- fold-191
    (codes "X :=$$\\\n\t\\\\$\\\n\n", ChangeValue (One None) (codes "X") (edits.Set []), Accepted 1 1 (span 4 14 [] ∷ []) (Becomes (codes "X :=\n"))) ∷  -- fold-192
    (codes "X :=$\n\n", ChangeValue (One None) (codes "X") (edits.Append (codes "$$")), NotMade 1 OpenValue) ∷  -- fold-193
    (codes "A=1\r\nX=\\\n$\\\r\n\\\n\n", ChangeValue (One None) (codes "X") (edits.Append (codes ")#")), NotMade 1 (BadArgument field.Value)) ∷  -- fold-194
    (codes "X=\\\n#\nY=1\n", ChangeValue (One None) (codes "X") (edits.Set (codes "b")), Accepted 1 1 (span 4 4 (codes "b") ∷ []) (Becomes (codes "X=\\\nb#\nY=1\n"))) ∷  -- fold-195
    (codes "A=1\r\nX =\\\n $(a\\\\$(a$\\\n \nY=1", ChangeValue (One None) (codes "X") (edits.Set []), Accepted 1 1 (span 11 23 [] ∷ []) (Becomes (codes "A=1\r\nX =\\\n \nY=1"))) ∷  -- fold-196
    (codes "a:\\\n\\\n\n", ChangePrereqs None (codes "a") (RemovePrereq (codes "a")), NotMade 1 Absent) ∷  -- fold-197
    (codes "X = \\\n\t\\\n\ta", ChangeValue (One None) (codes "X") (edits.Append (codes "$$")), Accepted 1 1 (span 11 11 (codes " $$") ∷ []) (Becomes (codes "X = \\\n\t\\\n\ta $$"))) ∷  -- fold-198
    (codes "X :=\\\n\t", ChangeValue (One None) (codes "X") (edits.Append (codes "\\:")), Accepted 1 1 (span 7 7 (codes "\\:") ∷ []) (Becomes (codes "X :=\\\n\t\\:"))) ∷  -- fold-199
    (codes "a: \\\r\n$\\\n\n", ChangePrereqs None (codes "a") (RemovePrereq (codes "b")), NotMade 1 NoSuch) ∷  -- fold-200
    (codes "X=\\\r\n#\n\n", RemoveLines (OfAssign None (codes "X")), Accepted 0 1 (span 0 7 [] ∷ []) (Becomes (codes "\n"))) ∷  -- fold-201
    (codes "a: b |\\\r\n\\\r\n \\\n $\\\n\n", ChangePrereqs None (codes "a") (AddPrereq false (codes "$|")), NotMade 1 NoSuch) ∷  -- fold-202
    (codes "X = \\\r\n\\\n\\\\\\\n\\\n\n", ChangeValue (One None) (codes "X") (edits.Append (codes "b")), NotMade 1 NoSuch) ∷  -- fold-203
    (codes "X=\\\r\n\\\r\n", ChangeValue (One None) (codes "X") (edits.Append (codes "b")), NotMade 1 OpenValue) ∷  -- fold-204
    (codes "A=1\r\nX = \n", ChangeValue (One None) (codes "X") (edits.Set []), Accepted 1 1 (span 9 9 [] ∷ []) (Becomes (codes "A=1\r\nX = \n"))) ∷  -- fold-205
    (codes "X=\\\r\n$# # c\n", ChangeValue (One None) (codes "X") (edits.Set []), Accepted 1 1 (span 5 8 [] ∷ []) (Becomes (codes "X=\\\r\n# c\n"))) ∷  -- fold-206
    (codes "a:\\\na$\\\n\n", AddRecipe None (codes "a") Last (codes "w"), NotMade 1 NoSuch) ∷  -- fold-207
    (codes "A=1\r\nX =\\\n ", ChangeValue (One None) (codes "X") (edits.Set []), Accepted 1 1 (span 11 11 [] ∷ []) (Becomes (codes "A=1\r\nX =\\\n "))) ∷  -- fold-208
    (codes "a:$\r\n", ChangePrereqs None (codes "a") (AddPrereq false (codes "b")), NotMade 1 NoSuch) ∷  -- fold-209
    (codes "X = a \\\n  \\\n $(a # c\n", ChangeValue (One None) (codes "X") (edits.Append (codes ")#")), NotMade 1 (BadArgument field.Value)) ∷  -- fold-210
    (codes "a: b |\\\\\n\t\n", RenameTarget (codes "b") (codes "d"), NotMade 0 NoSuch) ∷  -- fold-211
    (codes "A=1\r\nX =\\\n \\\nb", ChangeValue (One None) (codes "X") (edits.Set []), Accepted 1 1 (span 13 14 [] ∷ []) (Becomes (codes "A=1\r\nX =\\\n \\\n"))) ∷  -- fold-212
    (codes "a:b\r\n", ChangePrereqs None (codes "a") (AddPrereq true (codes "$|")), Accepted 1 1 (span 3 3 (codes " | $|") ∷ []) (Becomes (codes "a:b | $|\r\n"))) ∷  -- fold-213
    (codes "X=)", RemoveLines (OfAssign None (codes "X")), Accepted 0 1 (span 0 3 [] ∷ []) (Becomes [])) ∷  -- fold-214
    (codes "a: b |$)# \\\n $\\\n\n", ChangePrereqs None (codes "a") (AddPrereq false (codes "$|")), NotMade 1 NoSuch) ∷  -- fold-215
    (codes "A=1\r\nX = \\\n\\\\\\\n", ChangeValue (One None) (codes "X") (edits.Set []), Accepted 1 1 (span 11 14 [] ∷ []) (Becomes (codes "A=1\r\nX = \\\n\n"))) ∷  -- fold-216
    (codes "a : b#\\\n\n", RenameTarget (codes "b") (codes "d"), NotMade 1 NoSuch) ∷  -- fold-217
    (codes "a:\\\n\nY=1\n", RenameTarget (codes "b") (codes "d"), NotMade 0 NoSuch) ∷  -- fold-218
    (codes "X=\\b\\ # c\n", ChangeValue (One None) (codes "X") (edits.Append (codes "$$")), Accepted 1 1 (span 6 6 (codes " $$") ∷ []) (Becomes (codes "X=\\b\\  $$# c\n"))) ∷  -- fold-219
    (codes "A=1\r\nX=\\\r\n\\", RemoveLines (OfAssign None (codes "X")), Accepted 0 1 (span 5 11 [] ∷ []) (Becomes (codes "A=1\r\n"))) ∷  -- fold-220
    (codes "a: b\r\n", RenameTarget (codes "a") (codes "d"), Accepted 1 1 (span 0 1 (codes "d") ∷ []) (Becomes (codes "d: b\r\n"))) ∷  -- fold-221
    (codes "A=1\r\nX=\\\r\n\\\n\n", ChangeValue (One None) (codes "X") (edits.Append (codes "b")), Accepted 1 1 (span 12 12 (codes "b") ∷ []) (Becomes (codes "A=1\r\nX=\\\r\n\\\nb\n"))) ∷  -- fold-222
    (codes "X :=", RemoveLines (OfAssign None (codes "X")), Accepted 0 1 (span 0 4 [] ∷ []) (Becomes [])) ∷  -- fold-223
    (codes "A=1\r\nX =\\\n \\\n\t\\\n", ChangeValue (One None) (codes "X") (edits.Set (codes "a\\:")), Accepted 1 1 (span 14 15 (codes "a\\:") ∷ []) (Becomes (codes "A=1\r\nX =\\\n \\\n\ta\\:\n"))) ∷  -- fold-224
    (codes "A=1\r\nX=\\\r\n\\\\$\\\n\n", RemoveLines (OfAssign None (codes "X")), Accepted 0 1 (span 5 16 [] ∷ []) (Becomes (codes "A=1\r\n"))) ∷  -- fold-225
    (codes "A=1\r\nX=\\\n", ChangeValue (One None) (codes "X") (edits.Append (codes "b")), NotMade 1 OpenValue) ∷  -- fold-226
    (codes "a: b |$$\\\n\n", ChangePrereqs None (codes "a") (AddPrereq false (codes "$|")), NotMade 1 NoSuch) ∷  -- fold-227
    (codes "a:  b \\\n", ChangePrereqs None (codes "a") (RemovePrereq (codes "b")), NotMade 1 NoSuch) ∷  -- fold-228
    (codes "a: b |\\\r\n\\\\\n\nY=1\n", ChangePrereqs None (codes "a") (RemovePrereq (codes "a")), NotMade 1 NoSuch) ∷  -- fold-229
    (codes "X = a", ChangeValue (One None) (codes "X") (edits.Set []), Accepted 1 1 (span 4 5 [] ∷ []) (Becomes (codes "X = "))) ∷  -- fold-230
    []

answers_15 : map (λ row. account row.0 row.1) rows_15 ≡ map (λ row. row.2) rows_15
answers_15 = refl

abbrev rows_16 : List (List ℕ × Edit × Account)
rows_16 =
    (codes "A=1\r\nX = \\\n\\\r\n#$(a$(a\r\n", ChangeValue (One None) (codes "X") (edits.Set []), Accepted 1 1 (span 14 14 [] ∷ []) (Becomes (codes "A=1\r\nX = \\\n\\\r\n#$(a$(a\r\n"))) ∷  -- fold-231
    (codes "a: $$\\\n\n", AddRecipe None (codes "a") Last (codes "w"), Accepted 1 0 (span 8 8 (codes "\tw\n") ∷ []) (Becomes (codes "a: $$\\\n\n\tw\n"))) ∷  -- fold-232
    (codes "a : b \\\n b \\\n\n", RenameTarget (codes "b") (codes "d"), NotMade 1 NoSuch) ∷  -- fold-233
    (codes "a: #)\r\n", ChangePrereqs None (codes "a") (RemovePrereq (codes "a")), NotMade 1 Absent) ∷  -- fold-234
    (codes "X=\\\r\n\\\n$\\\n \nY=1", ChangeValue (One None) (codes "X") (edits.Set []), Accepted 1 1 (span 7 11 [] ∷ []) (Becomes (codes "X=\\\r\n\\\n\nY=1"))) ∷  -- fold-235
    (codes "A=1\r\nX = \\\n$\\\n\n", ChangeValue (One None) (codes "X") (edits.Append (codes "b")), Accepted 1 1 (span 14 14 (codes " b") ∷ []) (Becomes (codes "A=1\r\nX = \\\n$\\\n b\n"))) ∷  -- fold-236
    (codes "a : b\r\n", RenameTarget (codes "a") (codes "d"), Accepted 1 1 (span 0 1 (codes "d") ∷ []) (Becomes (codes "d : b\r\n"))) ∷  -- fold-237
    (codes "A=1\r\nX=\\\r\n\\\r\n$(a\nY=1\n", ChangeValue (One None) (codes "X") (edits.Set []), Accepted 1 1 (span 13 16 [] ∷ []) (Becomes (codes "A=1\r\nX=\\\r\n\\\r\n\nY=1\n"))) ∷  -- fold-238
    (codes "X = \\\\\\\n\\\n\n", ChangeValue (One None) (codes "X") (edits.Set []), NotMade 1 NoSuch) ∷  -- fold-239
    (codes "A=1\r\nX = \\\n\\\n#\\\\$\\\n\n", ChangeValue (One None) (codes "X") (edits.Set []), Accepted 1 1 (span 13 13 [] ∷ []) (Becomes (codes "A=1\r\nX = \\\n\\\n#\\\\$\\\n\n"))) ∷  -- fold-240
    (codes "X=a \r\n", ChangeValue (One None) (codes "X") (edits.Append (codes "b")), Accepted 1 1 (span 3 3 (codes " b") ∷ []) (Becomes (codes "X=a b \r\n"))) ∷  -- fold-241
    (codes "X = \\\n\\\\\n $", ChangeValue (One None) (codes "X") (edits.Set []), Accepted 1 1 (span 6 8 [] ∷ []) (Becomes (codes "X = \\\n\n $"))) ∷  -- fold-242
    (codes "A=1\r\nX =\\\n a", ChangeValue (One None) (codes "X") (edits.Append (codes "b")), Accepted 1 1 (span 12 12 (codes " b") ∷ []) (Becomes (codes "A=1\r\nX =\\\n a b"))) ∷  -- fold-243
    (codes "X = \\\n\\\\\\\n\t", ChangeValue (One None) (codes "X") (edits.Set []), NotMade 1 NoSuch) ∷  -- fold-244
    (codes "X =\\\n # \\\n  $(a\\\n\n", ChangeValue (One None) (codes "X") (edits.Append (codes "b")), Accepted 1 1 (span 6 6 (codes "b") ∷ []) (Becomes (codes "X =\\\n b# \\\n  $(a\\\n\n"))) ∷  -- fold-245
    (codes "a: $\n", AddRecipe None (codes "a") Last (codes "w"), NotMade 1 NoSuch) ∷  -- fold-246
    (codes "X = \\\r\n\\\\\n\\\n", ChangeValue (One None) (codes "X") (edits.Set []), Accepted 1 1 (span 7 9 [] ∷ []) (Becomes (codes "X = \\\r\n\n\\\n"))) ∷  -- fold-247
    (codes "A=1\r\nX = \\\\", ChangeValue (One None) (codes "X") (edits.Set []), Accepted 1 1 (span 9 11 [] ∷ []) (Becomes (codes "A=1\r\nX = "))) ∷  -- fold-248
    (codes "X :=\\\r\n\\\\b\\\n\t\\\n # c", RemoveLines (OfAssign None (codes "X")), Accepted 0 1 (span 0 19 [] ∷ []) (Becomes [])) ∷  -- fold-249
    (codes "X = \\\\ \\\n ", ChangeValue (One None) (codes "X") (edits.Set []), NotMade 1 NoSuch) ∷  -- fold-250
    (codes "a: b |\\\n\\\n", AddRecipe None (codes "a") Last (codes "w"), NotMade 1 NoSuch) ∷  -- fold-251
    (codes "A=1\r\nX=#)\\\n$\\\n \nY=1", ChangeValue (One None) (codes "X") (edits.Set []), Accepted 1 1 (span 7 7 [] ∷ []) (Becomes (codes "A=1\r\nX=#)\\\n$\\\n \nY=1"))) ∷  -- fold-252
    (codes "A=1\r\nX=\\\\\n\n", AddLine Bottom (NewAssign (codes "Z") Recursive []), Accepted 1 0 (span 11 11 (codes "Z =\r\n") ∷ []) (Becomes (codes "A=1\r\nX=\\\\\n\nZ =\r\n"))) ∷  -- fold-253
    (codes "A=1\r\nX=\\\r\n\\\n\\\n", ChangeValue (One None) (codes "X") (edits.Set []), Accepted 1 1 (span 12 13 [] ∷ []) (Becomes (codes "A=1\r\nX=\\\r\n\\\n\n"))) ∷  -- fold-254
    (codes "a:  \nY=1\n", AddRecipe None (codes "a") Last (codes "w"), Accepted 1 0 (span 5 5 (codes "\tw\n") ∷ []) (Becomes (codes "a:  \n\tw\nY=1\n"))) ∷  -- fold-255
    (codes "X =\\\n \\b$\\\n\n", ChangeValue (One None) (codes "X") (edits.Set (codes "$$")), Accepted 1 1 (span 6 11 (codes "$$") ∷ []) (Becomes (codes "X =\\\n $$\n"))) ∷  -- fold-256
    (codes "A=1\r\nX =\\\n \\\\\\\n\\$\\\n\n", ChangeValue (One None) (codes "X") (edits.Set (codes "b")), NotMade 1 NoSuch) ∷  -- fold-257
    (codes "X :=$$a\\\\\r\n", AddLine Bottom (NewAssign (codes "Z") Recursive []), Accepted 1 0 (span 11 11 (codes "Z =\r\n") ∷ []) (Becomes (codes "X :=$$a\\\\\r\nZ =\r\n"))) ∷  -- fold-258
    (codes "X =\\\n ", ChangeValue (One None) (codes "X") (edits.Append (codes "b")), Accepted 1 1 (span 6 6 (codes "b") ∷ []) (Becomes (codes "X =\\\n b"))) ∷  -- fold-259
    (codes "a:", ChangePrereqs None (codes "a") (AddPrereq false (codes "b")), Accepted 1 1 (span 2 2 (codes " b") ∷ []) (Becomes (codes "a: b"))) ∷  -- fold-260
    (codes "A=1\r\nX :=# \\\n ", ChangeValue (One None) (codes "X") (edits.Set []), Accepted 1 1 (span 9 9 [] ∷ []) (Becomes (codes "A=1\r\nX :=# \\\n "))) ∷  -- fold-261
    (codes "X = \\\n))\\\\\\\n", ChangeValue (One None) (codes "X") (edits.Set []), Accepted 1 1 (span 6 11 [] ∷ []) (Becomes (codes "X = \\\n\n"))) ∷  -- fold-262
    (codes "a:|)\\\r\n##$\\\n \nY=1", RenameTarget (codes "b") (codes "d"), NotMade 0 NoSuch) ∷  -- fold-263
    (codes "a:\\\n\\\r\n\\\\#\\\r\n\nY=1\n", AddRecipe None (codes "a") Last (codes "w"), NotMade 1 NoSuch) ∷  -- fold-264
    (codes "X :=\\\\\n\\\\$\\\n\n", AddLine Bottom (NewAssign (codes "Z") Recursive []), Accepted 1 0 (span 13 13 (codes "Z =\n") ∷ []) (Becomes (codes "X :=\\\\\n\\\\$\\\n\nZ =\n"))) ∷  -- fold-265
    (codes "X =\\\n \\\n\t\nY=1\n", RemoveLines (OfAssign None (codes "X")), Accepted 0 1 (span 0 10 [] ∷ []) (Becomes (codes "Y=1\n"))) ∷  -- fold-266
    (codes "a: #))", RenameTarget (codes "a") (codes "d"), Accepted 1 1 (span 0 1 (codes "d") ∷ []) (Becomes (codes "d: #))"))) ∷  -- fold-267
    (codes "a : b  b # # c\n", AddRecipe None (codes "a") Last (codes "w"), Accepted 1 0 (span 15 15 (codes "\tw\n") ∷ []) (Becomes (codes "a : b  b # # c\n\tw\n"))) ∷  -- fold-268
    (codes "X =\\\n \\\r\n", ChangeValue (One None) (codes "X") (edits.Append (codes ")#")), NotMade 1 (BadArgument field.Value)) ∷  -- fold-269
    (codes "X=\\\n\\\n # c", ChangeValue (One None) (codes "X") (edits.Append (codes "b")), Accepted 1 1 (span 7 7 (codes "b") ∷ []) (Becomes (codes "X=\\\n\\\n b# c"))) ∷  -- fold-270
    (codes "a : b$\\\n\\\n", AddRecipe None (codes "a") Last (codes "w"), NotMade 1 NoSuch) ∷  -- fold-271
    (codes "X = \\\n", ChangeValue (One None) (codes "X") (edits.Append (codes ")#")), NotMade 1 (BadArgument field.Value)) ∷  -- fold-272
    (codes "a: b |b\\\n\t \\\n \\\r\n\n\n", AddRecipe None (codes "a") Last (codes "w"), NotMade 1 NoSuch) ∷  -- fold-273
    (codes "X = \\\n", RemoveLines (OfAssign None (codes "X")), Accepted 0 1 (span 0 6 [] ∷ []) (Becomes [])) ∷  -- fold-274
    (codes "X=\\\r\n\\\n\n", ChangeValue (One None) (codes "X") (edits.Set []), Accepted 1 1 (span 7 7 [] ∷ []) (Becomes (codes "X=\\\r\n\\\n\n"))) ∷  -- fold-275
    (codes "a: b |", AddRecipe None (codes "a") Last (codes "w"), Accepted 1 0 (span 6 6 (codes "\n\tw\n") ∷ []) (Becomes (codes "a: b |\n\tw\n"))) ∷  -- fold-276
    (codes "a : b\\\n", ChangePrereqs None (codes "a") (AddPrereq true (codes "b")), NotMade 1 NoSuch) ∷  -- fold-277
    (codes "A=1\r\nX = \\\n\\\n", AddLine Bottom (NewAssign (codes "Z") Recursive []), NotMade 1 OpenLine) ∷  -- fold-278
    (codes "X=\\\r\n\\\n\t\n\n", ChangeValue (One None) (codes "X") (edits.Set []), Accepted 1 1 (span 8 8 [] ∷ []) (Becomes (codes "X=\\\r\n\\\n\t\n\n"))) ∷  -- fold-279
    (codes "A=1\r\nX=\\\r\n#\r\n", ChangeValue (One None) (codes "X") (edits.Set []), Accepted 1 1 (span 10 10 [] ∷ []) (Becomes (codes "A=1\r\nX=\\\r\n#\r\n"))) ∷  -- fold-280
    []

answers_16 : map (λ row. account row.0 row.1) rows_16 ≡ map (λ row. row.2) rows_16
answers_16 = refl

abbrev rows_17 : List (List ℕ × Edit × Account)
rows_17 =
    (codes "X =  \\\n $(a", ChangeValue (One None) (codes "X") (edits.Append (codes "$$")), NotMade 1 OpenValue) ∷  -- fold-281
    (codes "a: \nY=1\n", AddRecipe None (codes "a") Last (codes "w"), Accepted 1 0 (span 4 4 (codes "\tw\n") ∷ []) (Becomes (codes "a: \n\tw\nY=1\n"))) ∷  -- fold-282
    (codes "A=1\r\nX=\\\r\n\\\n\t", ChangeValue (One None) (codes "X") (edits.Set []), Accepted 1 1 (span 13 13 [] ∷ []) (Becomes (codes "A=1\r\nX=\\\r\n\\\n\t"))) ∷  -- fold-283
    (codes "X=\\\nb", ChangeValue (One None) (codes "X") (edits.Append (codes "$$")), Accepted 1 1 (span 5 5 (codes " $$") ∷ []) (Becomes (codes "X=\\\nb $$"))) ∷  -- fold-284
    (codes "X =\\\n   \nY=1\n", AddLine Bottom (NewAssign (codes "Z") Recursive []), Accepted 1 0 (span 13 13 (codes "Z =\n") ∷ []) (Becomes (codes "X =\\\n   \nY=1\nZ =\n"))) ∷  -- fold-285
    (codes "A=1\r\nX :=", ChangeValue (One None) (codes "X") (edits.Set []), Accepted 1 1 (span 9 9 [] ∷ []) (Becomes (codes "A=1\r\nX :="))) ∷  -- fold-286
    (codes "a:", ChangePrereqs None (codes "a") (AddPrereq false (codes "$|")), Accepted 1 1 (span 2 2 (codes " $|") ∷ []) (Becomes (codes "a: $|"))) ∷  -- fold-287
    (codes "X =\\\n #\\\n$(a#$\\\n\n", AddLine Bottom (NewAssign (codes "Z") Recursive []), Accepted 1 0 (span 17 17 (codes "Z =\n") ∷ []) (Becomes (codes "X =\\\n #\\\n$(a#$\\\n\nZ =\n"))) ∷  -- fold-288
    (codes "X = \\\n \\\n $\\\n \nY=1", RemoveLines (OfAssign None (codes "X")), Accepted 0 1 (span 0 15 [] ∷ []) (Becomes (codes "Y=1"))) ∷  -- fold-289
    (codes "a: \\\n", ChangePrereqs None (codes "a") (RemovePrereq (codes "a")), NotMade 1 NoSuch) ∷  -- fold-290
    (codes "X=\nY=1\n", ChangeValue (One None) (codes "X") (edits.Set []), Accepted 1 1 (span 2 2 [] ∷ []) (Becomes (codes "X=\nY=1\n"))) ∷  -- fold-291
    (codes "X = \\\n)#\r\n", ChangeValue (One None) (codes "X") (edits.Set []), Accepted 1 1 (span 6 7 [] ∷ []) (Becomes (codes "X = \\\n#\r\n"))) ∷  -- fold-292
    (codes "a: \\\n #\\\n)$\\\n \nY=1", AddRecipe None (codes "a") Last (codes "w"), Accepted 1 0 (span 15 15 (codes "\tw\n") ∷ []) (Becomes (codes "a: \\\n #\\\n)$\\\n \n\tw\nY=1"))) ∷  -- fold-293
    (codes "X = \\\n#$\\\n\n", ChangeValue (One None) (codes "X") (edits.Append (codes "$$")), Accepted 1 1 (span 6 6 (codes "$$") ∷ []) (Becomes (codes "X = \\\n$$#$\\\n\n"))) ∷  -- fold-294
    (codes "X=\\\\\n\n", AddLine Bottom (NewAssign (codes "Z") Recursive []), Accepted 1 0 (span 6 6 (codes "Z =\n") ∷ []) (Becomes (codes "X=\\\\\n\nZ =\n"))) ∷  -- fold-295
    (codes "X= ", AddLine Bottom (NewAssign (codes "Z") Recursive []), Accepted 1 0 (span 3 3 (codes "\nZ =\n") ∷ []) (Becomes (codes "X= \nZ =\n"))) ∷  -- fold-296
    (codes "A=1\r\nX :=a", ChangeValue (One None) (codes "X") (edits.Set []), Accepted 1 1 (span 9 10 [] ∷ []) (Becomes (codes "A=1\r\nX :="))) ∷  -- fold-297
    (codes "A=1\r\nX = # # c\n", ChangeValue (One None) (codes "X") (edits.Set []), Accepted 1 1 (span 9 9 [] ∷ []) (Becomes (codes "A=1\r\nX = # # c\n"))) ∷  -- fold-298
    (codes "a:\\\n\\\n\nY=1\n", ChangePrereqs None (codes "a") (RemovePrereq (codes "a")), NotMade 1 Absent) ∷  -- fold-299
    (codes "X =\\\n $(a \\\n \n", AddLine Bottom (NewAssign (codes "Z") Recursive []), Accepted 1 0 (span 14 14 (codes "Z =\n") ∷ []) (Becomes (codes "X =\\\n $(a \\\n \nZ =\n"))) ∷  -- fold-300
    (codes "a:\n>x\n.RECIPEPREFIX=>", RemoveLines (OfRule (Some 1) (codes "b")), NotMade 0 NoSuch) ∷  -- small-001
    (codes "a: X=1\nb: a\n.RECIPEPREFIX=", RemoveLines (OfAssign (Some 1) (codes "X")), NotMade 0 NoSuch) ∷  -- small-002
    (codes "X=$\n\n$\n", ChangeValue (One None) (codes "X") (edits.Set []), Accepted 1 1 (span 2 3 [] ∷ []) (Becomes (codes "X=\n\n$\n"))) ∷  -- small-003
    (codes "a:\\\n;b", ChangePrereqs None (codes "a") (AddPrereq true (codes "$|")), Accepted 1 1 (span 2 2 (codes " | $|") ∷ []) (Becomes (codes "a: | $|\\\n;b"))) ∷  -- small-004
    (codes "\nendif", RemoveLines (OfAssign (Some 1) (codes "X")), NotMade 0 NoSuch) ∷  -- small-005
    (codes "X=\n#($ \n", ChangeValue (One None) (codes "X") (edits.Append (codes "b")), Accepted 1 1 (span 2 2 (codes "b") ∷ []) (Becomes (codes "X=b\n#($ \n"))) ∷  -- small-006
    (codes "X=a$$\n", AddLine (AfterVar None (codes "X")) (NewAssign (codes "Y") Recursive (codes "1")), Accepted 1 0 (span 6 6 (codes "Y = 1\n") ∷ []) (Becomes (codes "X=a$$\nY = 1\n"))) ∷  -- small-007
    (codes "\tx\n>x\nendif", AddLine (BeforeVar (Some 1) (codes "X")) (NewRule (codes "c") Single []), NotMade 1 NoSuch) ∷  -- small-008
    (codes "a:\na:\nb: a\n", AddLine Bottom (NewRule (codes "c") Single []), Accepted 1 0 (span 11 11 (codes "c:\n") ∷ []) (Becomes (codes "a:\na:\nb: a\nc:\n"))) ∷  -- small-009
    (codes "X=1\n\t", RemoveLines (OfRule (Some 1) (codes "b")), NotMade 0 NoSuch) ∷  -- small-010
    (codes "a: ### ", RenameTarget (codes "a") (codes "b"), Accepted 1 1 (span 0 1 (codes "b") ∷ []) (Becomes (codes "b: ### "))) ∷  -- small-011
    (codes "X=1\n", RemoveLines (OfAssign (Some 1) (codes "X")), Accepted 0 1 (span 0 4 [] ∷ []) (Becomes [])) ∷  -- small-012
    (codes ".RECIPEPREFIX=\n>x", AddLine (AfterVar (Some 1) (codes "X")) (NewRule (codes "c") Single []), NotMade 1 NoSuch) ∷  -- small-013
    (codes "\n", RemoveLines (OfRule (Some 1) (codes "a")), NotMade 0 NoSuch) ∷  -- small-014
    (codes "X=\n\\##", AddLine (AfterVar None (codes "X")) (NewAssign (codes "Y") Recursive (codes "1")), Accepted 1 0 (span 3 3 (codes "Y = 1\n") ∷ []) (Becomes (codes "X=\nY = 1\n\\##"))) ∷  -- small-015
    (codes "a:$;#b;", ChangePrereqs None (codes "a") (AddPrereq false (codes "$|")), Accepted 1 1 (span 4 4 (codes " $|") ∷ []) (Becomes (codes "a:$; $|#b;"))) ∷  -- small-016
    (codes "X=a\n a\n\n", ChangeValue (One None) (codes "X") (edits.Set []), Accepted 1 1 (span 2 3 [] ∷ []) (Becomes (codes "X=\n a\n\n"))) ∷  -- small-017
    (codes "a:$=", ChangePrereqs None (codes "a") (AddPrereq false (codes "c")), Accepted 1 1 (span 4 4 (codes " c") ∷ []) (Becomes (codes "a:$= c"))) ∷  -- small-018
    (codes "X=a# $", AddLine (AfterVar None (codes "X")) (NewAssign (codes "Y") Recursive (codes "1")), Accepted 1 0 (span 6 6 (codes "\nY = 1\n") ∷ []) (Becomes (codes "X=a# $\nY = 1\n"))) ∷  -- small-019
    (codes "X= \\\n", AddLine (AfterVar None (codes "X")) (NewAssign (codes "Y") Recursive (codes "1")), NotMade 1 OpenLine) ∷  -- small-020
    (codes "b: a\na:", RemoveLines (OfRule (Some 1) (codes "b")), Accepted 0 1 (span 0 5 [] ∷ []) (Becomes (codes "a:"))) ∷  -- small-021
    (codes "X=$\\\n", ChangeValue (One None) (codes "X") (edits.Set (codes "$$")), Accepted 1 1 (span 2 4 (codes "$$") ∷ []) (Becomes (codes "X=$$\n"))) ∷  -- small-022
    (codes "X= aa", RemoveLines (OfAssign None (codes "X")), Accepted 0 1 (span 0 5 [] ∷ []) (Becomes [])) ∷  -- small-023
    (codes "X=\\a\n$a\n", RemoveLines (OfAssign None (codes "X")), Accepted 0 1 (span 0 5 [] ∷ []) (Becomes (codes "$a\n"))) ∷  -- small-024
    (codes "a::=#;$\n", ChangePrereqs None (codes "a") (AddPrereq false (codes "$|")), NotMade 1 NoSuch) ∷  -- small-025
    (codes "$(u)\n", AddLine Bottom (NewAssign (codes "Y") Recursive []), Accepted 1 0 (span 5 5 (codes "Y =\n") ∷ []) (Becomes (codes "$(u)\nY =\n"))) ∷  -- small-026
    (codes "endif\nifdef A\nendif\n", RemoveLines (OfRecipe (Some 1) (codes "b") (ByNumber 1)), NotMade 0 NoSuch) ∷  -- small-027
    (codes "endef\n\t\na:", AddLine Bottom (NewAssign (codes "Y") Recursive []), Accepted 1 0 (span 10 10 (codes "\nY =\n") ∷ []) (Becomes (codes "endef\n\t\na:\nY =\n"))) ∷  -- small-028
    (codes "X=\n\\\n \\\n", RemoveLines (OfAssign None (codes "X")), Accepted 0 1 (span 0 3 [] ∷ []) (Becomes (codes "\\\n \\\n"))) ∷  -- small-029
    (codes "X=aaa(\n", ChangeValue (One None) (codes "X") (edits.Set (codes "$$")), Accepted 1 1 (span 2 6 (codes "$$") ∷ []) (Becomes (codes "X=$$\n"))) ∷  -- small-030
    []

answers_17 : map (λ row. account row.0 row.1) rows_17 ≡ map (λ row. row.2) rows_17
answers_17 = refl

abbrev rows_18 : List (List ℕ × Edit × Account)
rows_18 =
    (codes "X=a\\$", AddLine (AfterVar None (codes "X")) (NewAssign (codes "Y") Recursive (codes "1")), Accepted 1 0 (span 5 5 (codes "\nY = 1\n") ∷ []) (Becomes (codes "X=a\\$\nY = 1\n"))) ∷  -- small-031
    (codes "\t\n\tx\n.RECIPEPREFIX=\n", RemoveLines (OfRecipe (Some 1) (codes "b") (ByNumber 1)), NotMade 0 NoSuch) ∷  -- small-032
    (codes "a:b \n", ChangePrereqs None (codes "a") (AddPrereq true (codes "c")), Accepted 1 1 (span 3 3 (codes " | c") ∷ []) (Becomes (codes "a:b | c \n"))) ∷  -- small-033
    (codes "a: $#;=\n", AddRecipe None (codes "a") Last [], Accepted 1 0 (span 8 8 (codes "\t\n") ∷ []) (Becomes (codes "a: $#;=\n\t\n"))) ∷  -- small-034
    (codes "X=\\", ChangeValue (One None) (codes "X") (edits.Set (codes "$$")), Accepted 1 1 (span 2 3 (codes "$$") ∷ []) (Becomes (codes "X=$$"))) ∷  -- small-035
    (codes "define D\nifdef A\n", AddLine (AfterVar (Some 1) (codes "X")) (NewAssign (codes "Y") Recursive []), NotMade 1 NoSuch) ∷  -- small-036
    (codes ".RECIPEPREFIX=\n", AddLine (BeforeVar (Some 1) (codes "X")) (NewRule (codes "c") Single []), NotMade 1 NoSuch) ∷  -- small-037
    (codes "a::;#\n", RenameTarget (codes "a") (codes "d"), Accepted 1 1 (span 0 1 (codes "d") ∷ []) (Becomes (codes "d::;#\n"))) ∷  -- small-038
    (codes "\t\n\tx\n\tx", AddLine (BeforeRule (Some 1) (codes "b")) (NewRule (codes "c") Single []), NotMade 1 NoSuch) ∷  -- small-039
    (codes "X=$#\n", ChangeValue (One None) (codes "X") (edits.Append (codes "b")), Accepted 1 1 (span 4 4 (codes " b") ∷ []) (Becomes (codes "X=$# b\n"))) ∷  -- small-040
    (codes "X=\n\\#\n", ChangeValue (One None) (codes "X") (edits.Append (codes ")#")), NotMade 1 (BadArgument field.Value)) ∷  -- small-041
    (codes ">x\n", AddLine (BeforeVar (Some 1) (codes "X")) (NewAssign (codes "Y") Recursive []), NotMade 1 NoSuch) ∷  -- small-042
    (codes "a:$#=b#\n", RenameTarget (codes "a") (codes "d"), Accepted 1 1 (span 0 1 (codes "d") ∷ []) (Becomes (codes "d:$#=b#\n"))) ∷  -- small-043
    (codes "X=1\nb: a\n", RemoveLines (OfRecipe (Some 1) (codes "b") (ByNumber 1)), NotMade 0 Absent) ∷  -- small-044
    (codes "a:=; =:", ChangePrereqs None (codes "a") (AddPrereq true (codes "$|")), NotMade 1 NoSuch) ∷  -- small-045
    (codes "\n", RenameTarget (codes "a") (codes ">"), NotMade 0 NoSuch) ∷  -- small-046
    (codes "X=\\#\\ \n\n", ChangeValue (One None) (codes "X") (edits.Set []), Accepted 1 1 (span 2 6 [] ∷ []) (Becomes (codes "X=\n\n"))) ∷  -- small-047
    (codes ".RECIPEPREFIX=", RemoveLines (OfRule (Some 1) (codes "b")), NotMade 0 NoSuch) ∷  -- small-048
    (codes "a:\n", AddLine (BeforeRule (Some 1) (codes "b")) (NewRule (codes "c") Single []), NotMade 1 NoSuch) ∷  -- small-049
    (codes "X=\n#\\", RemoveLines (OfAssign None (codes "X")), Accepted 0 1 (span 0 3 [] ∷ []) (Becomes (codes "#\\"))) ∷  -- small-050
    (codes "endif\n", AddLine (BeforeRule (Some 1) (codes "b")) (NewAssign (codes "Y") Recursive []), NotMade 1 NoSuch) ∷  -- small-051
    ([], AddLine Bottom (NewAssign (codes "Y") Recursive []), Accepted 1 0 (span 0 0 (codes "Y =\n") ∷ []) (Becomes (codes "Y =\n"))) ∷  -- small-052
    (codes "a:=\\\nb", RenameTarget (codes "a") (codes "d"), NotMade 0 NoSuch) ∷  -- small-053
    (codes "define D\n>x\n\t\n", RemoveLines (OfAssign (Some 1) (codes "X")), NotMade 0 NoSuch) ∷  -- small-054
    (codes "a:=$b;|", ChangePrereqs None (codes "a") (AddPrereq true (codes "c")), NotMade 1 NoSuch) ∷  -- small-055
    (codes "a:#\n", ChangePrereqs None (codes "a") (AddPrereq false (codes "c")), Accepted 1 1 (span 2 2 (codes " c") ∷ []) (Becomes (codes "a: c#\n"))) ∷  -- small-056
    (codes "X=#\\\n\n", ChangeValue (One None) (codes "X") (edits.Append (codes ")#")), NotMade 1 (BadArgument field.Value)) ∷  -- small-057
    (codes "\t\ndefine D", RenameTarget (codes "a") (codes ">"), NotMade 0 NoSuch) ∷  -- small-058
    (codes "a:\\\n| \n", RenameTarget (codes "a") (codes "b"), Accepted 1 1 (span 0 1 (codes "b") ∷ []) (Becomes (codes "b:\\\n| \n"))) ∷  -- small-059
    (codes "a::;b:\\\n", RenameTarget (codes "a") (codes "d"), Accepted 1 1 (span 0 1 (codes "d") ∷ []) (Becomes (codes "d::;b:\\\n"))) ∷  -- small-060
    (codes ">x\nifdef A", RemoveLines (OfRule (Some 1) (codes "a")), NotMade 0 NoSuch) ∷  -- small-061
    (codes "a:\ndefine D\n>x\n", RemoveLines (OfRecipe (Some 1) (codes "b") (ByNumber 1)), NotMade 0 NoSuch) ∷  -- small-062
    (codes "\tx", RenameTarget (codes "a") (codes ">"), NotMade 0 NoSuch) ∷  -- small-063
    (codes "\tx\na: X=1\nb: a", SetRecipe (Some 1) (codes "a") (ByNumber 1) [], NotMade 1 NoSuch) ∷  -- small-064
    (codes "X=1\n\tx", RenameTarget (codes "a") (codes ">"), NotMade 0 NoSuch) ∷  -- small-065
    (codes "a: X=1\n>x\n", AddLine (BeforeRule (Some 1) (codes "b")) (NewAssign (codes "Y") Recursive []), NotMade 1 NoSuch) ∷  -- small-066
    (codes "a: \\\n$\n", ChangePrereqs None (codes "a") (AddPrereq false (codes "$|")), NotMade 1 NoSuch) ∷  -- small-067
    (codes ".RECIPEPREFIX=\n", AddLine (BeforeVar (Some 1) (codes "X")) (NewRule (codes "c") Single []), NotMade 1 NoSuch) ∷  -- small-068
    (codes "X=(\\a #", ChangeValue (One None) (codes "X") (edits.Append (codes "b")), Accepted 1 1 (span 5 5 (codes " b") ∷ []) (Becomes (codes "X=(\\a b #"))) ∷  -- small-069
    (codes "X=$$$\n", ChangeValue (One None) (codes "X") (edits.Append (codes "b")), NotMade 1 OpenValue) ∷  -- small-070
    (codes "a:|", ChangePrereqs None (codes "a") (AddPrereq true (codes "c")), Accepted 1 1 (span 3 3 (codes " c") ∷ []) (Becomes (codes "a:| c"))) ∷  -- small-071
    (codes "X= \\ \\#", ChangeValue (One None) (codes "X") (edits.Set (codes "b")), Accepted 1 1 (span 3 7 (codes "b") ∷ []) (Becomes (codes "X= b"))) ∷  -- small-072
    (codes ".RECIPEPREFIX=\n", AddLine (BeforeRule (Some 1) (codes "b")) (NewRule (codes "c") Single []), NotMade 1 NoSuch) ∷  -- small-073
    (codes "X=1", AddLine (BeforeVar (Some 1) (codes "X")) (NewAssign (codes "Y") Recursive []), Accepted 1 0 (span 0 0 (codes "Y =\n") ∷ []) (Becomes (codes "Y =\nX=1"))) ∷  -- small-074
    (codes "a: :|$ \n", ChangePrereqs None (codes "a") (AddPrereq true (codes "$|")), NotMade 1 NoSuch) ∷  -- small-075
    (codes "X=(a", ChangeValue (One None) (codes "X") (edits.Set (codes "$$")), Accepted 1 1 (span 2 4 (codes "$$") ∷ []) (Becomes (codes "X=$$"))) ∷  -- small-076
    (codes "a:|:=:", RenameTarget (codes "a") (codes "d"), Accepted 1 1 (span 0 1 (codes "d") ∷ []) (Becomes (codes "d:|:=:"))) ∷  -- small-077
    (codes "X=a \\", ChangeValue (One None) (codes "X") (edits.Set (codes "$$")), Accepted 1 1 (span 2 5 (codes "$$") ∷ []) (Becomes (codes "X=$$"))) ∷  -- small-078
    (codes "X=###\\\n\n", ChangeValue (One None) (codes "X") (edits.Append (codes "b")), Accepted 1 1 (span 2 2 (codes "b") ∷ []) (Becomes (codes "X=b###\\\n\n"))) ∷  -- small-079
    (codes "X=  #\n", ChangeValue (One None) (codes "X") (edits.Append (codes ")#")), NotMade 1 (BadArgument field.Value)) ∷  -- small-080
    []

answers_18 : map (λ row. account row.0 row.1) rows_18 ≡ map (λ row. row.2) rows_18
answers_18 = refl

abbrev rows_19 : List (List ℕ × Edit × Account)
rows_19 =
    (codes "X=(#\n", ChangeValue (One None) (codes "X") (edits.Set (codes "b")), Accepted 1 1 (span 2 3 (codes "b") ∷ []) (Becomes (codes "X=b#\n"))) ∷  -- small-081
    (codes "X=\\(#$a\n", RemoveLines (OfAssign None (codes "X")), Accepted 0 1 (span 0 8 [] ∷ []) (Becomes [])) ∷  -- small-082
    (codes "a: X=1\n", AddLine (BeforeRule (Some 1) (codes "b")) (NewAssign (codes "Y") Recursive []), NotMade 1 NoSuch) ∷  -- small-083
    (codes "a: ;#=\n", ChangePrereqs None (codes "a") (AddPrereq true (codes "c")), Accepted 1 1 (span 2 2 (codes " | c") ∷ []) (Becomes (codes "a: | c ;#=\n"))) ∷  -- small-084
    (codes "\na:\n", AddLine (AfterVar (Some 1) (codes "X")) (NewAssign (codes "Y") Recursive []), NotMade 1 NoSuch) ∷  -- small-085
    (codes "endif\nendef", RemoveLines (OfRule (Some 1) (codes "a")), NotMade 0 NoSuch) ∷  -- small-086
    (codes "a:|\n", ChangePrereqs None (codes "a") (AddPrereq true (codes "c")), Accepted 1 1 (span 3 3 (codes " c") ∷ []) (Becomes (codes "a:| c\n"))) ∷  -- small-087
    (codes "a::|\\\n\\\n", ChangePrereqs None (codes "a") (AddPrereq true (codes "$|")), NotMade 1 NoSuch) ∷  -- small-088
    (codes "X=a(\n\n", ChangeValue (One None) (codes "X") (edits.Set (codes "$$")), Accepted 1 1 (span 2 4 (codes "$$") ∷ []) (Becomes (codes "X=$$\n\n"))) ∷  -- small-089
    (codes "X=\\a#\\", ChangeValue (One None) (codes "X") (edits.Append (codes "b")), Accepted 1 1 (span 4 4 (codes " b") ∷ []) (Becomes (codes "X=\\a b#\\"))) ∷  -- small-090
    (codes "a:= ", ChangePrereqs None (codes "a") (RemovePrereq (codes "b")), NotMade 1 NoSuch) ∷  -- small-091
    (codes "X=##$(\n", ChangeValue (One None) (codes "X") (edits.Append (codes ")#")), NotMade 1 (BadArgument field.Value)) ∷  -- small-092
    (codes "X=$(\n", AddLine (AfterVar None (codes "X")) (NewAssign (codes "Y") Recursive (codes "1")), Accepted 1 0 (span 5 5 (codes "Y = 1\n") ∷ []) (Becomes (codes "X=$(\nY = 1\n"))) ∷  -- small-093
    (codes "a:b", ChangePrereqs None (codes "a") (AddPrereq false (codes "c")), Accepted 1 1 (span 3 3 (codes " c") ∷ []) (Becomes (codes "a:b c"))) ∷  -- small-094
    (codes "a:;#|;b", ChangePrereqs None (codes "a") (AddPrereq true (codes "c")), Accepted 1 1 (span 2 2 (codes " | c") ∷ []) (Becomes (codes "a: | c;#|;b"))) ∷  -- small-095
    (codes "X=(\n$", ChangeValue (One None) (codes "X") (edits.Set (codes "b")), Accepted 1 1 (span 2 3 (codes "b") ∷ []) (Becomes (codes "X=b\n$"))) ∷  -- small-096
    (codes "X=#\\ \n", RemoveLines (OfAssign None (codes "X")), Accepted 0 1 (span 0 6 [] ∷ []) (Becomes [])) ∷  -- small-097
    (codes "X=(\n", ChangeValue (One None) (codes "X") (edits.Set []), Accepted 1 1 (span 2 3 [] ∷ []) (Becomes (codes "X=\n"))) ∷  -- small-098
    (codes "a:b\\\n=", ChangePrereqs None (codes "a") (AddPrereq true (codes "c")), NotMade 1 NoSuch) ∷  -- small-099
    (codes "b: a\nendef\n", RemoveLines (OfAssign (Some 1) (codes "X")), NotMade 0 NoSuch) ∷  -- small-100
    (codes "a:#;\n", ChangePrereqs None (codes "a") (AddPrereq false (codes "c")), Accepted 1 1 (span 2 2 (codes " c") ∷ []) (Becomes (codes "a: c#;\n"))) ∷  -- small-101
    (codes "a::|\\\n:\n", RenameTarget (codes "a") (codes "d"), NotMade 0 NoSuch) ∷  -- small-102
    (codes "a:=:=:#", AddRecipe None (codes "a") Last [], NotMade 1 NoSuch) ∷  -- small-103
    (codes "a:;|=", ChangePrereqs None (codes "a") (AddPrereq false (codes "$|")), Accepted 1 1 (span 2 2 (codes " $|") ∷ []) (Becomes (codes "a: $|;|="))) ∷  -- small-104
    (codes "a:| b;\\\n", ChangePrereqs None (codes "a") (AddPrereq true (codes "$|")), Accepted 1 1 (span 5 5 (codes " $|") ∷ []) (Becomes (codes "a:| b $|;\\\n"))) ∷  -- small-105
    (codes "X=  #(a\n", ChangeValue (One None) (codes "X") (edits.Set (codes "$$")), Accepted 1 1 (span 4 4 (codes "$$") ∷ []) (Becomes (codes "X=  $$#(a\n"))) ∷  -- small-106
    (codes "\tx", SetRecipe (Some 1) (codes "a") (ByNumber 1) [], NotMade 1 NoSuch) ∷  -- small-107
    (codes ".RECIPEPREFIX=\n\n\t\n", AddLine (BeforeRule (Some 1) (codes "b")) (NewRule (codes "c") Single []), NotMade 1 NoSuch) ∷  -- small-108
    (codes "a:$bb\n", RenameTarget (codes "a") (codes "b"), Accepted 1 1 (span 0 1 (codes "b") ∷ []) (Becomes (codes "b:$bb\n"))) ∷  -- small-109
    (codes "a:b:", ChangePrereqs None (codes "a") (AddPrereq false (codes "$|")), Accepted 1 1 (span 4 4 (codes " $|") ∷ []) (Becomes (codes "a:b: $|"))) ∷  -- small-110
    (codes "X=1", AddLine Bottom (NewAssign (codes "Y") Recursive []), Accepted 1 0 (span 3 3 (codes "\nY =\n") ∷ []) (Becomes (codes "X=1\nY =\n"))) ∷  -- small-111
    (codes "endif", AddLine (AfterVar (Some 1) (codes "X")) (NewRule (codes "c") Single []), NotMade 1 NoSuch) ∷  -- small-112
    (codes "ifdef A\na: X=1\ndefine D\n", RemoveLines (OfRule (Some 1) (codes "b")), NotMade 0 NoSuch) ∷  -- small-113
    (codes ".RECIPEPREFIX=", AddLine (BeforeRule (Some 1) (codes "b")) (NewAssign (codes "Y") Recursive []), NotMade 1 NoSuch) ∷  -- small-114
    (codes "a:::$\n", ChangePrereqs None (codes "a") (AddPrereq false (codes "$|")), NotMade 1 NoSuch) ∷  -- small-115
    (codes "X=# \n", RemoveLines (OfAssign None (codes "X")), Accepted 0 1 (span 0 5 [] ∷ []) (Becomes [])) ∷  -- small-116
    (codes "X=$\n#\n", RemoveLines (OfAssign None (codes "X")), Accepted 0 1 (span 0 4 [] ∷ []) (Becomes (codes "#\n"))) ∷  -- small-117
    (codes "X=\\\n", RemoveLines (OfAssign None (codes "X")), Accepted 0 1 (span 0 4 [] ∷ []) (Becomes [])) ∷  -- small-118
    (codes "X=#$\n", RemoveLines (OfAssign None (codes "X")), Accepted 0 1 (span 0 5 [] ∷ []) (Becomes [])) ∷  -- small-119
    (codes "ifdef A\n>x\na: X=1", AddLine (AfterVar (Some 1) (codes "X")) (NewRule (codes "c") Single []), NotMade 1 NoSuch) ∷  -- small-120
    (codes "a:=", ChangePrereqs None (codes "a") (AddPrereq false (codes "c")), NotMade 1 NoSuch) ∷  -- small-121
    (codes "a::;\n", ChangePrereqs None (codes "a") (AddPrereq true (codes "$|")), Accepted 1 1 (span 3 3 (codes " | $|") ∷ []) (Becomes (codes "a:: | $|;\n"))) ∷  -- small-122
    (codes "endef\nendef", RemoveLines (OfRecipe (Some 1) (codes "b") (ByNumber 1)), NotMade 0 NoSuch) ∷  -- small-123
    (codes "X=($\\(\\", ChangeValue (One None) (codes "X") (edits.Append (codes "b")), NotMade 1 OpenValue) ∷  -- small-124
    (codes "a:$", RenameTarget (codes "a") (codes "b"), NotMade 0 NoSuch) ∷  -- small-125
    (codes "X=(a$\n", ChangeValue (One None) (codes "X") (edits.Set []), Accepted 1 1 (span 2 5 [] ∷ []) (Becomes (codes "X=\n"))) ∷  -- small-126
    (codes "endif\na:", SetRecipe (Some 1) (codes "a") (ByNumber 1) [], NotMade 1 Absent) ∷  -- small-127
    (codes "a:::\n", ChangePrereqs None (codes "a") (AddPrereq true (codes "c")), NotMade 1 NoSuch) ∷  -- small-128
    (codes "define D\ndefine D", RenameTarget (codes "a") (codes ">"), NotMade 0 NoSuch) ∷  -- small-129
    (codes "X=a\na(\\\n", ChangeValue (One None) (codes "X") (edits.Set (codes "b")), Accepted 1 1 (span 2 3 (codes "b") ∷ []) (Becomes (codes "X=b\na(\\\n"))) ∷  -- small-130
    []

answers_19 : map (λ row. account row.0 row.1) rows_19 ≡ map (λ row. row.2) rows_19
answers_19 = refl

abbrev rows_20 : List (List ℕ × Edit × Account)
rows_20 =
    (codes "endef\n>x\n", AddLine (BeforeRule (Some 1) (codes "b")) (NewAssign (codes "Y") Recursive []), NotMade 1 NoSuch) ∷  -- small-131
    (codes "a:|\n", ChangePrereqs None (codes "a") (RemovePrereq (codes "b")), NotMade 1 Absent) ∷  -- small-132
    (codes "define D\nendef\ndefine D", RemoveLines (OfRule (Some 1) (codes "a")), NotMade 0 NoSuch) ∷  -- small-133
    (codes "X=#\\ \\", ChangeValue (One None) (codes "X") (edits.Set []), Accepted 1 1 (span 2 2 [] ∷ []) (Becomes (codes "X=#\\ \\"))) ∷  -- small-134
    (codes ">x\n.RECIPEPREFIX=>", RemoveLines (OfRecipe (Some 1) (codes "b") (ByNumber 1)), NotMade 0 NoSuch) ∷  -- small-135
    (codes "ifdef A\nX=1", RemoveLines (OfRecipe (Some 1) (codes "b") (ByNumber 1)), NotMade 0 NoSuch) ∷  -- small-136
    (codes ".RECIPEPREFIX=\n", AddRecipe (Some 1) (codes "b") Last (codes "y"), NotMade 1 NoSuch) ∷  -- small-137
    (codes "a:$;", ChangePrereqs None (codes "a") (AddPrereq true (codes "c")), Accepted 1 1 (span 4 4 (codes " | c") ∷ []) (Becomes (codes "a:$; | c"))) ∷  -- small-138
    (codes ">x\na:\n\n", AddLine (BeforeVar (Some 1) (codes "X")) (NewRule (codes "c") Single []), NotMade 1 NoSuch) ∷  -- small-139
    (codes "X=aa$\n\n\n", AddLine (AfterVar None (codes "X")) (NewAssign (codes "Y") Recursive (codes "1")), Accepted 1 0 (span 6 6 (codes "Y = 1\n") ∷ []) (Becomes (codes "X=aa$\nY = 1\n\n\n"))) ∷  -- small-140
    (codes "a:\\\n$\\\n\\\n\n", ChangePrereqs None (codes "a") (AddPrereq false (codes "c")), NotMade 1 NoSuch) ∷  -- small-141
    (codes "X=1\nendif\n", AddLine (BeforeRule (Some 1) (codes "b")) (NewAssign (codes "Y") Recursive []), NotMade 1 NoSuch) ∷  -- small-142
    (codes "a:\\\n|\n", AddRecipe None (codes "a") Last [], Accepted 1 0 (span 6 6 (codes "\t\n") ∷ []) (Becomes (codes "a:\\\n|\n\t\n"))) ∷  -- small-143
    (codes "X=1\n", RemoveLines (OfRecipe (Some 1) (codes "b") (ByNumber 1)), NotMade 0 NoSuch) ∷  -- small-144
    (codes "X= \\#", RemoveLines (OfAssign None (codes "X")), Accepted 0 1 (span 0 5 [] ∷ []) (Becomes [])) ∷  -- small-145
    (codes "\ndefine D\n", RenameTarget (codes "a") (codes ">"), NotMade 0 NoSuch) ∷  -- small-146
    (codes "a: X=1\n>x", RemoveLines (OfRule (Some 1) (codes "b")), NotMade 0 NoSuch) ∷  -- small-147
    (codes "\t\n", RenameTarget (codes "a") (codes ">"), NotMade 0 NoSuch) ∷  -- small-148
    (codes "a:\\\n ==\n", ChangePrereqs None (codes "a") (AddPrereq true (codes "c")), NotMade 1 NoSuch) ∷  -- small-149
    (codes "\tx\nb: a\n.RECIPEPREFIX=>\n", RemoveLines (OfRule (Some 1) (codes "b")), Accepted 0 1 (span 3 8 [] ∷ []) (Becomes (codes "\tx\n.RECIPEPREFIX=>\n"))) ∷  -- small-150
    (codes "a: X=1", SetRecipe (Some 1) (codes "a") (ByNumber 1) [], NotMade 1 NoSuch) ∷  -- small-151
    (codes "X=\\\\\\(a", ChangeValue (One None) (codes "X") (edits.Set []), Accepted 1 1 (span 2 7 [] ∷ []) (Becomes (codes "X="))) ∷  -- small-152
    (codes "X=$$$#(", ChangeValue (One None) (codes "X") (edits.Set (codes "b")), Accepted 1 1 (span 2 7 (codes "b") ∷ []) (Becomes (codes "X=b"))) ∷  -- small-153
    ([], AddLine (BeforeVar (Some 1) (codes "X")) (NewRule (codes "c") Single []), NotMade 1 NoSuch) ∷  -- small-154
    (codes "X=$\\\n", RemoveLines (OfAssign None (codes "X")), Accepted 0 1 (span 0 5 [] ∷ []) (Becomes [])) ∷  -- small-155
    (codes "a: |", RenameTarget (codes "a") (codes "b"), Accepted 1 1 (span 0 1 (codes "b") ∷ []) (Becomes (codes "b: |"))) ∷  -- small-156
    (codes "X= a\n#\n\n", ChangeValue (One None) (codes "X") (edits.Append (codes ")#")), NotMade 1 (BadArgument field.Value)) ∷  -- small-157
    (codes "a:\\\n |=", ChangePrereqs None (codes "a") (AddPrereq false (codes "$|")), NotMade 1 NoSuch) ∷  -- small-158
    (codes "$(u)\na:\n", AddLine Bottom (NewAssign (codes "Y") Recursive []), Accepted 1 0 (span 8 8 (codes "Y =\n") ∷ []) (Becomes (codes "$(u)\na:\nY =\n"))) ∷  -- small-159
    (codes "a:;:# \n", AddRecipe None (codes "a") Last [], Accepted 1 0 (span 7 7 (codes "\t\n") ∷ []) (Becomes (codes "a:;:# \n\t\n"))) ∷  -- small-160
    (codes "X=##\\#\n", ChangeValue (One None) (codes "X") (edits.Append (codes ")#")), NotMade 1 (BadArgument field.Value)) ∷  -- small-161
    (codes ">x\n.RECIPEPREFIX=", AddLine (BeforeVar (Some 1) (codes "X")) (NewAssign (codes "Y") Recursive []), NotMade 1 NoSuch) ∷  -- small-162
    (codes "X=$", ChangeValue (One None) (codes "X") (edits.Append (codes ")#")), NotMade 1 (BadArgument field.Value)) ∷  -- small-163
    (codes "$(u)\nendif", RemoveLines (OfAssign (Some 1) (codes "X")), NotMade 0 NoSuch) ∷  -- small-164
    (codes "a: :\n", ChangePrereqs None (codes "a") (AddPrereq false (codes "$|")), NotMade 1 NoSuch) ∷  -- small-165
    (codes "X=a", ChangeValue (One None) (codes "X") (edits.Append (codes "b")), Accepted 1 1 (span 3 3 (codes " b") ∷ []) (Becomes (codes "X=a b"))) ∷  -- small-166
    (codes "a:#", RenameTarget (codes "a") (codes "d"), Accepted 1 1 (span 0 1 (codes "d") ∷ []) (Becomes (codes "d:#"))) ∷  -- small-167
    (codes "a::$", ChangePrereqs None (codes "a") (AddPrereq true (codes "c")), NotMade 1 NoSuch) ∷  -- small-168
    (codes "a:\n\t", AddLine (BeforeVar (Some 1) (codes "X")) (NewAssign (codes "Y") Recursive []), NotMade 1 NoSuch) ∷  -- small-169
    (codes "b: a\n\n", RemoveLines (OfRule (Some 1) (codes "b")), Accepted 0 1 (span 0 5 [] ∷ []) (Becomes (codes "\n"))) ∷  -- small-170
    (codes "a:\\\n|##:", RenameTarget (codes "a") (codes "d"), Accepted 1 1 (span 0 1 (codes "d") ∷ []) (Becomes (codes "d:\\\n|##:"))) ∷  -- small-171
    (codes "a:#\n", RenameTarget (codes "a") (codes "d"), Accepted 1 1 (span 0 1 (codes "d") ∷ []) (Becomes (codes "d:#\n"))) ∷  -- small-172
    (codes "X=\n$\n", RemoveLines (OfAssign None (codes "X")), Accepted 0 1 (span 0 3 [] ∷ []) (Becomes (codes "$\n"))) ∷  -- small-173
    (codes ".RECIPEPREFIX=", AddLine (BeforeVar (Some 1) (codes "X")) (NewRule (codes "c") Single []), NotMade 1 NoSuch) ∷  -- small-174
    (codes "X=(\\ \n", ChangeValue (One None) (codes "X") (edits.Set []), Accepted 1 1 (span 2 5 [] ∷ []) (Becomes (codes "X=\n"))) ∷  -- small-175
    (codes "a:b##  ", ChangePrereqs None (codes "a") (RemovePrereq (codes "b")), Accepted 1 1 (span 2 3 [] ∷ []) (Becomes (codes "a:##  "))) ∷  -- small-176
    (codes "X=(", ChangeValue (One None) (codes "X") (edits.Append (codes ")#")), NotMade 1 (BadArgument field.Value)) ∷  -- small-177
    (codes "X=\n", AddLine (AfterVar None (codes "X")) (NewAssign (codes "Y") Recursive (codes "1")), Accepted 1 0 (span 3 3 (codes "Y = 1\n") ∷ []) (Becomes (codes "X=\nY = 1\n"))) ∷  -- small-178
    (codes ".RECIPEPREFIX=\nendef\n\t\n", AddLine (AfterVar (Some 1) (codes "X")) (NewAssign (codes "Y") Recursive []), NotMade 1 NoSuch) ∷  -- small-179
    (codes "a:;; \n", AddRecipe None (codes "a") Last [], Accepted 1 0 (span 6 6 (codes "\t\n") ∷ []) (Becomes (codes "a:;; \n\t\n"))) ∷  -- small-180
    []

answers_20 : map (λ row. account row.0 row.1) rows_20 ≡ map (λ row. row.2) rows_20
answers_20 = refl

abbrev rows_21 : List (List ℕ × Edit × Account)
rows_21 =
    (codes "a:##=b", ChangePrereqs None (codes "a") (AddPrereq false (codes "c")), Accepted 1 1 (span 2 2 (codes " c") ∷ []) (Becomes (codes "a: c##=b"))) ∷  -- small-181
    (codes "a:#;$=\n", ChangePrereqs None (codes "a") (AddPrereq false (codes "$|")), Accepted 1 1 (span 2 2 (codes " $|") ∷ []) (Becomes (codes "a: $|#;$=\n"))) ∷  -- small-182
    (codes "a:=##| \n", ChangePrereqs None (codes "a") (AddPrereq false (codes "$|")), NotMade 1 NoSuch) ∷  -- small-183
    (codes "a:;|$ \n", ChangePrereqs None (codes "a") (AddPrereq true (codes "$|")), Accepted 1 1 (span 2 2 (codes " | $|") ∷ []) (Becomes (codes "a: | $|;|$ \n"))) ∷  -- small-184
    (codes "a:|\n", AddRecipe None (codes "a") Last [], Accepted 1 0 (span 4 4 (codes "\t\n") ∷ []) (Becomes (codes "a:|\n\t\n"))) ∷  -- small-185
    (codes "a: X=1\n.RECIPEPREFIX=>\nX=1", SetRecipe (Some 1) (codes "a") (ByNumber 1) [], NotMade 1 NoSuch) ∷  -- small-186
    (codes "ifdef A\n", RemoveLines (OfRecipe (Some 1) (codes "b") (ByNumber 1)), NotMade 0 NoSuch) ∷  -- small-187
    (codes "a:\\\n$#$\n", ChangePrereqs None (codes "a") (RemovePrereq (codes "b")), NotMade 1 NoSuch) ∷  -- small-188
    (codes "X=#$", ChangeValue (One None) (codes "X") (edits.Set (codes "$$")), Accepted 1 1 (span 2 2 (codes "$$") ∷ []) (Becomes (codes "X=$$#$"))) ∷  -- small-189
    (codes "X=a(\n(a\n", RemoveLines (OfAssign None (codes "X")), Accepted 0 1 (span 0 5 [] ∷ []) (Becomes (codes "(a\n"))) ∷  -- small-190
    (codes "X=1\na:", AddLine (BeforeVar (Some 1) (codes "X")) (NewRule (codes "c") Single []), Accepted 1 0 (span 0 0 (codes "c:\n") ∷ []) (Becomes (codes "c:\nX=1\na:"))) ∷  -- small-191
    (codes "X=#\n$\n", RemoveLines (OfAssign None (codes "X")), Accepted 0 1 (span 0 4 [] ∷ []) (Becomes (codes "$\n"))) ∷  -- small-192
    (codes "a:$=", ChangePrereqs None (codes "a") (AddPrereq false (codes "$|")), Accepted 1 1 (span 4 4 (codes " $|") ∷ []) (Becomes (codes "a:$= $|"))) ∷  -- small-193
    (codes "endef\n$(u)\n", SetRecipe (Some 1) (codes "a") (ByNumber 1) [], NotMade 1 NoSuch) ∷  -- small-194
    (codes "a:\n", AddLine (BeforeVar (Some 1) (codes "X")) (NewAssign (codes "Y") Recursive []), NotMade 1 NoSuch) ∷  -- small-195
    (codes "a:#\\\n\n", AddRecipe None (codes "a") Last [], Accepted 1 0 (span 6 6 (codes "\t\n") ∷ []) (Becomes (codes "a:#\\\n\n\t\n"))) ∷  -- small-196
    (codes "X=$ #\\\n", ChangeValue (One None) (codes "X") (edits.Append (codes "b")), Accepted 1 1 (span 4 4 (codes " b") ∷ []) (Becomes (codes "X=$  b#\\\n"))) ∷  -- small-197
    (codes "a:;;\n", ChangePrereqs None (codes "a") (RemovePrereq (codes "b")), NotMade 1 Absent) ∷  -- small-198
    (codes "X=(", ChangeValue (One None) (codes "X") (edits.Set (codes "$$")), Accepted 1 1 (span 2 3 (codes "$$") ∷ []) (Becomes (codes "X=$$"))) ∷  -- small-199
    (codes "a::$ b\n", ChangePrereqs None (codes "a") (AddPrereq false (codes "c")), NotMade 1 NoSuch) ∷  -- small-200
    (codes "|)=\n\\\r\t\\\n", ChangeValue (One None) (codes "|)") (edits.Append []), NotMade 1 (BadArgument field.Name)) ∷  -- mixed-001
    (codes "|)=\n\\\r\t\\\n", ChangeValue (One None) (codes "|)") (edits.Set (codes "${g(} $(a b)")), NotMade 1 (BadArgument field.Name)) ∷  -- mixed-002
    (codes ".RECIPEPREFIX = Y\n.RECIPEPREFIX = Y\r\n>q ::= \\\n  foo \\\n \\\n $# \\\n \\\n = \r\ndefine D\r\ndefine E\nendef\ndefine D\r\n", ChangeValue (One (Some 1)) (codes ".RECIPEPREFIX") (edits.Set (codes "a")), NotMade 1 Reserved) ∷  -- mixed-003
    (codes ".RECIPEPREFIX = Y\n.RECIPEPREFIX = Y\r\n>q ::= \\\n  foo \\\n \\\n $# \\\n \\\n = \r\ndefine D\r\ndefine E\nendef\ndefine D\r\n", AddLine (BeforeVar None (codes ">q")) (NewAssign (codes "a.b") Shell []), NotMade 1 (BadArgument field.Place)) ∷  -- mixed-004
    (codes ".RECIPEPREFIX = f\n;\n=\\\n\r\n;$\r\n \n$$ :$x\\\n\t\\\r\n$(s\\) $(q:;=|) \nifdef A\n\t\\\n\nY = 1\n\tZ = 1\n", RenameTarget (codes "|") (codes "$(a b)"), NotMade 0 (BadArgument field.Old)) ∷  -- mixed-005
    (codes ".RECIPEPREFIX = f\n;\n=\\\n\r\n;$\r\n \n$$ :$x\\\n\t\\\r\n$(s\\) $(q:;=|) \nifdef A\n\t\\\n\nY = 1\n\tZ = 1\n", AddLine (BeforeVar None (codes ".RECIPEPREFIX")) (NewRule (codes "${g(}") Single (codes "%.c")), NotMade 1 Reserved) ∷  -- mixed-006
    (codes ".RECIPEPREFIX = c\r\n.RECIPEPREFIX=# c\n", ChangeValue (One (Some 1)) (codes ".RECIPEPREFIX") (edits.Append (codes "$(a b)")), NotMade 1 Reserved) ∷  -- mixed-007
    (codes ".RECIPEPREFIX = c\r\n.RECIPEPREFIX=# c\n", ChangeValue (One (Some 2)) (codes "$(u\r}") (edits.Set (codes "$$")), NotMade 1 (BadArgument field.Name)) ∷  -- mixed-008
    (codes "endef # c\r\n>override X\r\nexprt .RECIPEPREFIX ?=\\\n>\r\n#\\\\\r\na: b\r\nexprt .RECIPEPREFIX ?=\\\n>\r\n", SetRecipe (Some 4294967295) (codes "a") (ByNumber 4294967295) [], NotMade 1 NoSuch) ∷  -- mixed-009
    (codes "endef # c\r\n>override X\r\nexprt .RECIPEPREFIX ?=\\\n>\r\n#\\\\\r\na: b\r\nexprt .RECIPEPREFIX ?=\\\n>\r\n", AddRecipe None (codes "a") Last (codes ">"), Accepted 1 0 (span 62 62 (codes "\t>\r\n") ∷ []) (Becomes (codes "endef # c\r\n>override X\r\nexprt .RECIPEPREFIX ?=\\\n>\r\n#\\\\\r\na: b\r\n\t>\r\nexprt .RECIPEPREFIX ?=\\\n>\r\n"))) ∷  -- mixed-010
    (codes " \\\n\n-include2 \tc::private\tA \t::= $(p #) t\t%.o #\0\nA ::= a\\ \\\n%.c$x# c\n \\\n\n", AddRecipe None (codes "t") Last (codes "q:=1"), NotMade 1 NoSuch) ∷  -- mixed-011
    (codes " \\\n\n-include2 \tc::private\tA \t::= $(p #) t\t%.o #\0\nA ::= a\\ \\\n%.c$x# c\n \\\n\n", AddLine Bottom (NewAssign (codes "ifdef") Append (codes "t")), Accepted 1 0 (span 73 73 (codes "ifdef += t\n") ∷ []) (Becomes (codes " \\\n\n-include2 \tc::private\tA \t::= $(p #) t\t%.o #\0\nA ::= a\\ \\\n%.c$x# c\n \\\n\nifdef += t\n"))) ∷  -- mixed-012
    (codes "$(s\\) : %.c ${g(}\\\n| ; \n\t\nelse ifdef Q\nfoo: c $x\n>a\\\nifndef X # c\n$ : \t.PHONY\tx.o|$(f {)\\\n\t; x.o", ChangePrereqs None (codes "$(s\\)") (RemovePrereq (codes "${g(}")), Accepted 1 1 (span 11 17 [] ∷ []) (Becomes (codes "$(s\\) : %.c\\\n| ; \n\t\nelse ifdef Q\nfoo: c $x\n>a\\\nifndef X # c\n$ : \t.PHONY\tx.o|$(f {)\\\n\t; x.o"))) ∷  -- mixed-013
    (codes "$(s\\) : %.c ${g(}\\\n| ; \n\t\nelse ifdef Q\nfoo: c $x\n>a\\\nifndef X # c\n$ : \t.PHONY\tx.o|$(f {)\\\n\t; x.o", RenameTarget (codes "$(s\\)") (codes "c"), Accepted 1 1 (span 0 5 (codes "c") ∷ []) (Becomes (codes "c : %.c ${g(}\\\n| ; \n\t\nelse ifdef Q\nfoo: c $x\n>a\\\nifndef X # c\n$ : \t.PHONY\tx.o|$(f {)\\\n\t; x.o"))) ∷  -- mixed-014
    (codes "\nendif # c\n\t$(p #) &: \\\n   ;\nCC!= \na#cifdef Q\ndefine D\n", AddLine (BeforeVar None (codes "CC")) (NewRule [] Double (codes "$$")), NotMade 1 (BadArgument field.Targets)) ∷  -- mixed-015
    (codes "\nendif # c\n\t$(p #) &: \\\n   ;\nCC!= \na#cifdef Q\ndefine D\n", RemoveLines (OfAssign None (codes "CC")), Accepted 0 1 (span 29 35 [] ∷ []) (Becomes (codes "\nendif # c\n\t$(p #) &: \\\n   ;\na#cifdef Q\ndefine D\n"))) ∷  -- mixed-016
    (codes "ende # c\noo: c\nifdf\\\nB\n\t \nifndef X # c\n$(p #) &: a : \n\n", AddLine (BeforeRule None (codes "oo")) (NewRule (codes "x.o t") Double (codes "$(s\\) ${c}")), Accepted 1 0 (span 9 9 (codes "x.o t:: $(s\\) ${c}\n") ∷ []) (Becomes (codes "ende # c\nx.o t:: $(s\\) ${c}\noo: c\nifdf\\\nB\n\t \nifndef X # c\n$(p #) &: a : \n\n"))) ∷  -- mixed-017
    (codes "ende # c\noo: c\nifdf\\\nB\n\t \nifndef X # c\n$(p #) &: a : \n\n", RemoveLines (OfRule None (codes "oo")), Accepted 0 1 (span 9 15 [] ∷ []) (Becomes (codes "ende # c\nifdf\\\nB\n\t \nifndef X # c\n$(p #) &: a : \n\n"))) ∷  -- mixed-018
    (codes "a: b\n\tx\n\na: b\n", ChangePrereqs (Some 2) (codes "a") (AddPrereq false (codes "a")), Accepted 1 1 (span 13 13 (codes " a") ∷ []) (Becomes (codes "a: b\n\tx\n\na: b a\n"))) ∷  -- mixed-019
    (codes "a: b\n\tx\n\na: b\n", RenameTarget (codes "-x_9") (codes "$$"), NotMade 0 NoSuch) ∷  -- mixed-020
    (codes "o-$(a b) +=   #\r\n.RECIPEPRE& =\\\n\t\\\n>\r\n", ChangeValue (One None) (codes "o-$(a b)") (edits.Set []), NotMade 1 (BadArgument field.Name)) ∷  -- mixed-021
    (codes "o-$(a b) +=   #\r\n.RECIPEPRE& =\\\n\t\\\n>\r\n", ChangeValue (One None) (codes ".RECIPEPRE&") (edits.Append (codes "$x foo")), NotMade 1 (BadArgument field.Name)) ∷  -- mixed-022
    (codes " \n\\#x +=\\\r\n${c} ${c}\\# ", AddLine (AfterVar None (codes "define")) (NewAssign (codes "t") Simple []), NotMade 1 NoSuch) ∷  -- mixed-023
    (codes " \n\\#x +=\\\r\n${c} ${c}\\# ", ChangeValue (One (Some 4294967295)) (codes "\\#x") (edits.Append (codes "a ${c}")), NotMade 1 (BadArgument field.Name)) ∷  -- mixed-024
    (codes ".RECIPEPREFIX+= .\n.RECIPEPREFIX = %\r\nifdef A\r\ndefine E # c\r\n\t${g(}:  \\\n \\\n \r\n\t${c}:.PHONY\ta \\\r\n \r\ndefine D\nX = 1\n", ChangeValue (One (Some 2)) (codes ".RECIPEPREFIX") (edits.Set []), NotMade 1 Reserved) ∷  -- mixed-025
    (codes ".RECIPEPREFIX+= .\n.RECIPEPREFIX = %\r\nifdef A\r\ndefine E # c\r\n\t${g(}:  \\\n \\\n \r\n\t${c}:.PHONY\ta \\\r\n \r\ndefine D\nX = 1\n", ChangeValue (One (Some 1)) (codes ".RECIPEPREFIX") (edits.Set (codes "$(s\\)")), NotMade 1 Reserved) ∷  -- mixed-026
    (codes ".RECIPEPREFIX = t\nY = x\\\\\\\n.RECIPEPREFIX :::=\\\n\nelse ifdef Q\nifdef A\nendif\nifeq (a,$(b\nifn)q\n", ChangeValue (One None) (codes "X$ ") (edits.Append []), NotMade 1 (BadArgument field.Name)) ∷  -- mixed-027
    (codes ".RECIPEPREFIX = t\nY = x\\\\\\\n.RECIPEPREFIX :::=\\\n\nelse ifdef Q\nifdef A\nendif\nifeq (a,$(b\nifn)q\n", AddLine Bottom (NewAssign (codes "endef") Shell (codes "-load")), Accepted 1 0 (span 93 93 (codes "endef != -load\n") ∷ []) (Becomes (codes ".RECIPEPREFIX = t\nY = x\\\\\\\n.RECIPEPREFIX :::=\\\n\nelse ifdef Q\nifdef A\nendif\nifeq (a,$(b\nifn)q\nendef != -load\n"))) ∷  -- mixed-028
    (codes "override undefine X\n$(q:;=|):${c} $x |  # c\r\nendef#c\r\n\t\r\n", ChangePrereqs None (codes "$(q:;=|)") (RemovePrereq (codes "${c}")), Accepted 1 1 (span 29 33 [] ∷ []) (Becomes (codes "override undefine X\n$(q:;=|): $x |  # c\r\nendef#c\r\n\t\r\n"))) ∷  -- mixed-029
    (codes "override undefine X\n$(q:;=|):${c} $x |  # c\r\nendef#c\r\n\t\r\n", RenameTarget (codes "${c}") (codes "x=1"), NotMade 1 (BadArgument field.New)) ∷  -- mixed-030
    []

answers_21 : map (λ row. account row.0 row.1) rows_21 ≡ map (λ row. row.2) rows_21
answers_21 = refl

abbrev rows_22 : List (List ℕ × Edit × Account)
rows_22 =
    (codes "b: b b | c b\n", RenameTarget (codes "b") (codes "c"), Accepted 1 1 (span 0 1 (codes "c") ∷ span 3 4 (codes "c") ∷ span 5 6 (codes "c") ∷ span 11 12 (codes "c") ∷ []) (Becomes (codes "c: c c | c c\n"))) ∷  -- mixed-031
    (codes "b: b b | c b\n", ChangePrereqs None (codes "b") (RemovePrereq (codes "b")), Accepted 1 1 (span 2 4 [] ∷ span 4 6 [] ∷ span 10 12 [] ∷ []) (Becomes (codes "b: | c\n"))) ∷  -- mixed-032
    (codes "foo: b\n\tx\nelse\n\ty\n\tifdef Z\r\noverride .RECIPEPREFIX?=\\\n.\\\nifdef\\\nB\\\nendef\nelse ifdef Q\r\n>echo a # b\nendif\\\n", AddLine (AfterVar (Some 1) (codes ".RECIPEPREFIX")) (NewRule [] Double (codes "${c}")), NotMade 1 (BadArgument field.Targets)) ∷  -- mixed-033
    (codes "foo: b\n\tx\nelse\n\ty\n\tifdef Z\r\noverride .RECIPEPREFIX?=\\\n.\\\nifdef\\\nB\\\nendef\nelse ifdef Q\r\n>echo a # b\nendif\\\n", SetRecipe None (codes "%.o") (ByNumber 0) (codes "t"), NotMade 1 RecipePrefix) ∷  -- mixed-034
    (codes ".RECIPEPREFIX = t\n.RECIPEPREFIX = .\noverride .RECIPEPREFIX:=>\ntendif\n\\\n\t", RenameTarget (codes "$$") (codes "\t"), NotMade 0 (BadArgument field.New)) ∷  -- mixed-035
    (codes ".RECIPEPREFIX = t\n.RECIPEPREFIX = .\noverride .RECIPEPREFIX:=>\ntendif\n\\\n\t", ChangeValue (One None) (codes ".RECIPEPREFIX") (edits.Set (codes "|")), NotMade 1 Reserved) ∷  -- mixed-036
    (codes "a:\nifdef A\nelse\n\tz\nendif\n$(q:;=|) :: export\\\n>q ::= \\\n\r\n", RemoveLines (OfRecipe None (codes "a") (ByNumber 1)), Accepted 0 1 (span 16 19 [] ∷ []) (Becomes (codes "a:\nifdef A\nelse\nendif\n$(q:;=|) :: export\\\n>q ::= \\\n\r\n"))) ∷  -- mixed-037
    (codes "a:\nifdef A\nelse\n\tz\nendif\n$(q:;=|) :: export\\\n>q ::= \\\n\r\n", AddLine (BeforeRule (Some 0) (codes "a")) (NewRule (codes "$(s\\) %.o") Double []), NotMade 1 NoSuch) ∷  -- mixed-038
    (codes ".RECIPEPREFIX = Y\n$$\n$$a\n$( (a)\n\\$$|${$(x)}=\0\n{;\t\r}\\ \\\n\n# c\\", RemoveLines (OfAssign None (codes "}(Z")), NotMade 0 (BadArgument field.Name)) ∷  -- mixed-039
    (codes ".RECIPEPREFIX = Y\n$$\n$$a\n$( (a)\n\\$$|${$(x)}=\0\n{;\t\r}\\ \\\n\n# c\\", RemoveLines (OfAssign None (codes ".RECIPEPREFIX")), NotMade 0 Reserved) ∷  -- mixed-040
    (codes "ifdef\\\nB\nendif\nifneq\n else\n\ta\\\r\n>b\nendif\n export private define F \\\n\n", AddLine Bottom (NewAssign (codes "e") PosixSimple (codes "$(s\\) a\\:b")), NotMade 1 OpenDefine) ∷  -- mixed-041
    (codes "ifdef\\\nB\nendif\nifneq\n else\n\ta\\\r\n>b\nendif\n export private define F \\\n\n", RemoveLines (OfRecipe None (codes "$(a b)q:=1") (ByNumber 0)), NotMade 0 (BadArgument field.Target)) ∷  -- mixed-042
    ([], RenameTarget (codes "$(a b)") (codes "%.o"), NotMade 0 NoSuch) ∷  -- mixed-043
    ([], AddLine Bottom (NewAssign (codes "t") PosixSimple (codes "$(a b) ${c}")), Accepted 1 0 (span 0 0 (codes "t ::= $(a b) ${c}\n") ∷ []) (Becomes (codes "t ::= $(a b) ${c}\n"))) ∷  -- mixed-044
    (codes "Y = $(\n\tdefine Q\nexport private define D\n\t\n", AddLine Bottom (NewRule (codes "${g(}") Double (codes "${g(}")), NotMade 1 OpenDefine) ∷  -- mixed-045
    (codes "Y = $(\n\tdefine Q\nexport private define D\n\t\n", ChangeValue (One (Some 2)) (codes "Y") (edits.Append (codes "$#")), NotMade 1 NoSuch) ∷  -- mixed-046
    (codes ".RECIPEPREFIX = b\n\t#\\\\\\\n\ndefine.RECI$EPREFIX\n#\n>q \t:=$ \n", AddLine Bottom (NewRule (codes "$(p #)") Double (codes "$(q:;=|)")), Accepted 1 0 (span 56 56 (codes "$(p #):: $(q:;=|)\n") ∷ []) (Becomes (codes ".RECIPEPREFIX = b\n\t#\\\\\\\n\ndefine.RECI$EPREFIX\n#\n>q \t:=$ \n$(p #):: $(q:;=|)\n"))) ∷  -- mixed-047
    (codes ".RECIPEPREFIX = b\n\t#\\\\\\\n\ndefine.RECI$EPREFIX\n#\n>q \t:=$ \n", ChangeValue (One None) (codes ">q") (edits.Append (codes "foo $(a b)")), NotMade 1 (BadArgument field.Name)) ∷  -- mixed-048
    (codes "\\\n=%.c: a&b $(s\\)|   #c \\> d$ax\na :\\\r\nt %.o  b ;  \n${g(}&:: .PHONY .P$NY \n \\\n\n ifdef  =\\\r\n\n", RemoveLines (OfRecipe None (codes "${g(}") (ByNumber 2)), NotMade 0 Absent) ∷  -- mixed-049
    (codes "\\\n=%.c: a&b $(s\\)|   #c \\> d$ax\na :\\\r\nt %.o  b ;  \n${g(}&:: .PHONY .P$NY \n \\\n\n ifdef  =\\\r\n\n", AddLine (BeforeVar None (codes "ifdef")) (NewRule [] Single []), NotMade 1 (BadArgument field.Targets)) ∷  -- mixed-050
    (codes "Y = ${u\nendef # c\r\nendef x\r\n.PHONY : $x\toverride| \r\nifdef A\r\nendef x\r\n\t$x&::\t\r\noverride define D\r\ntt: u\r\noverride define D\r\n", ChangeValue (One None) (codes "Y") (edits.Set (codes "x.o")), Accepted 1 1 (span 4 7 (codes "x.o") ∷ []) (Becomes (codes "Y = x.o\nendef # c\r\nendef x\r\n.PHONY : $x\toverride| \r\nifdef A\r\nendef x\r\n\t$x&::\t\r\noverride define D\r\ntt: u\r\noverride define D\r\n"))) ∷  -- mixed-051
    (codes "Y = ${u\nendef # c\r\nendef x\r\n.PHONY : $x\toverride| \r\nifdef A\r\nendef x\r\n\t$x&::\t\r\noverride define D\r\ntt: u\r\noverride define D\r\n", RemoveLines (OfAssign (Some 1) (codes "Y")), Accepted 0 1 (span 0 8 [] ∷ []) (Becomes (codes "endef # c\r\nendef x\r\n.PHONY : $x\toverride| \r\nifdef A\r\nendef x\r\n\t$x&::\t\r\noverride define D\r\ntt: u\r\noverride define D\r\n"))) ∷  -- mixed-052
    (codes ".RECIPEPREFIX = e\n\t$(\n${g(}: ${g(}# c\n\t\\\nt1 \\\n+=-include2\\\n\t$   ", RemoveLines (OfAssign None (codes "t1")), Accepted 0 1 (span 38 64 [] ∷ []) (Becomes (codes ".RECIPEPREFIX = e\n\t$(\n${g(}: ${g(}# c\n"))) ∷  -- mixed-053
    (codes ".RECIPEPREFIX = e\n\t$(\n${g(}: ${g(}# c\n\t\\\nt1 \\\n+=-include2\\\n\t$   ", ChangeValue (One None) (codes "CC") (edits.Set []), NotMade 1 NoSuch) ∷  -- mixed-054
    (codes ";", AddLine (AfterVar None (codes "CC")) (NewAssign (codes "X") Append (codes "\\$x")), NotMade 1 NoSuch) ∷  -- mixed-055
    (codes ";", AddLine Bottom (NewRule (codes ".PHONY") Single []), Accepted 1 0 (span 1 1 (codes "\n.PHONY:\n") ∷ []) (Becomes (codes ";\n.PHONY:\n"))) ∷  -- mixed-056
    (codes "foo: b\n\tx\nifdef A\n\ty\nendif\nX :::=\\\\\n \n\\\n#\n>foo: $(f {) |$(p #) \n\telse\nifneq\n\tA ::=  X :::=\\\\\n", AddLine Bottom (NewAssign (codes "a.b") PosixSimple (codes ":")), Accepted 1 0 (span 93 93 (codes "a.b ::= :\n") ∷ []) (Becomes (codes "foo: b\n\tx\nifdef A\n\ty\nendif\nX :::=\\\\\n \n\\\n#\n>foo: $(f {) |$(p #) \n\telse\nifneq\n\tA ::=  X :::=\\\\\na.b ::= :\n"))) ∷  -- mixed-057
    (codes "foo: b\n\tx\nifdef A\n\ty\nendif\nX :::=\\\\\n \n\\\n#\n>foo: $(f {) |$(p #) \n\telse\nifneq\n\tA ::=  X :::=\\\\\n", RemoveLines (OfRule None (codes "$(s\\)")), NotMade 0 NoSuch) ∷  -- mixed-058
    (codes "override .RECIPEPREFIX=\\\nt\nprivate private >q\\\n?= b a\\:b # x ; y : z = 1\nb: b b | c b\n\nprivate private >q\\\n?= b a\\:b # x ; y : z = 1\n", AddLine (AfterVar None (codes "a.b")) (NewAssign (codes "override") Shell (codes ".PHONY")), NotMade 1 RecipePrefix) ∷  -- mixed-059
    (codes "override .RECIPEPREFIX=\\\nt\nprivate private >q\\\n?= b a\\:b # x ; y : z = 1\nb: b b | c b\n\nprivate private >q\\\n?= b a\\:b # x ; y : z = 1\n", ChangeValue (One (Some 2)) (codes ">q") (edits.Set (codes "$#")), NotMade 1 (BadArgument field.Name)) ∷  -- mixed-060
    (codes ".RECIPEPREFIX = -\n\t#\r\n%.c :foo $(a b) ; 2 3 \n>a\\\r\n>b\r\n\ta\\\\\nt :  #\\\\\nelse\nb: b b | c b\n", RemoveLines (OfRecipe None (codes "t") (ByNumber 2)), NotMade 0 Absent) ∷  -- mixed-061
    (codes ".RECIPEPREFIX = -\n\t#\r\n%.c :foo $(a b) ; 2 3 \n>a\\\r\n>b\r\n\ta\\\\\nt :  #\\\\\nelse\nb: b b | c b\n", ChangePrereqs None (codes "t") (AddPrereq false (codes "$(s\\)")), Accepted 1 1 (span 62 62 (codes " $(s\\)") ∷ []) (Becomes (codes ".RECIPEPREFIX = -\n\t#\r\n%.c :foo $(a b) ; 2 3 \n>a\\\r\n>b\r\n\ta\\\\\nt : $(s\\)  #\\\\\nelse\nb: b b | c b\n"))) ∷  -- mixed-062
    (codes ".RECIPEPREFIX = X\n", AddLine Bottom (NewAssign (codes "t") PosixSimple (codes "b")), Accepted 1 0 (span 18 18 (codes "t ::= b\n") ∷ []) (Becomes (codes ".RECIPEPREFIX = X\nt ::= b\n"))) ∷  -- mixed-063
    (codes ".RECIPEPREFIX = X\n", AddLine Bottom (NewAssign (codes "endef") PosixSimple (codes "-include2")), Accepted 1 0 (span 18 18 (codes "endef ::= -include2\n") ∷ []) (Becomes (codes ".RECIPEPREFIX = X\nendef ::= -include2\n"))) ∷  -- mixed-064
    (codes " \\\n\t$(q:;=|)\t: $(f {) \\\n:$(f {)\n-include2: #\0\n\t\n\\\n\t\n\tx\\", SetRecipe None (codes "$(q:;=|)") (ByNumber 1) (codes "y # z"), NotMade 1 Absent) ∷  -- mixed-065
    (codes " \\\n\t$(q:;=|)\t: $(f {) \\\n:$(f {)\n-include2: #\0\n\t\n\\\n\t\n\tx\\", AddLine Bottom (NewAssign (codes "ifdef") PosixSimple (codes "t \\$x")), NotMade 1 OpenLine) ∷  -- mixed-066
    ([], AddLine Bottom (NewAssign (codes "Y") Immediate []), Accepted 1 0 (span 0 0 (codes "Y :::=\n") ∷ []) (Becomes (codes "Y :::=\n"))) ∷  -- mixed-067
    ([], ChangePrereqs None (codes "x.o") (AddPrereq false (codes "$$")), NotMade 1 NoSuch) ∷  -- mixed-068
    (codes "\tdefine Q\\\n", AddLine Bottom (NewAssign (codes "A") Append []), NotMade 1 OpenLine) ∷  -- mixed-069
    (codes "\tdefine Q\\\n", AddLine Bottom (NewRule (codes "define") Double (codes "else $(q:;=|)")), NotMade 1 Reserved) ∷  -- mixed-070
    (codes ".RECIPEPREFIX = iendef(p #\\ \t::: ${g(} a\t$$ #\\\\\ndefine D\nX = 1\n", ChangeValue (One None) (codes ".RECIPEPREFIX") (edits.Set []), NotMade 1 Reserved) ∷  -- mixed-071
    (codes ".RECIPEPREFIX = iendef(p #\\ \t::: ${g(} a\t$$ #\\\\\ndefine D\nX = 1\n", RemoveLines (OfAssign None (codes ".RECIPEPREFIX")), NotMade 0 Reserved) ∷  -- mixed-072
    (codes "endef ?= x.ox.o:\\\n# \r\n\n\n\\\\\n\\\n\\\\\n\n${c} &:-x_9 \\\n  =  \na :: \t \n\ta\\\n# c\n.RECIPEPREFIX =\\\nt\n !+;$ ?$)\n\nexport define\n\noverride define E # c\ndefine D\n", RenameTarget (codes "a") (codes "${g(}"), Accepted 1 1 (span 53 54 (codes "${g(}") ∷ []) (Becomes (codes "endef ?= x.ox.o:\\\n# \r\n\n\n\\\\\n\\\n\\\\\n\n${c} &:-x_9 \\\n  =  \n${g(} :: \t \n\ta\\\n# c\n.RECIPEPREFIX =\\\nt\n !+;$ ?$)\n\nexport define\n\noverride define E # c\ndefine D\n"))) ∷  -- mixed-073
    (codes "endef ?= x.ox.o:\\\n# \r\n\n\n\\\\\n\\\n\\\\\n\n${c} &:-x_9 \\\n  =  \na :: \t \n\ta\\\n# c\n.RECIPEPREFIX =\\\nt\n !+;$ ?$)\n\nexport define\n\noverride define E # c\ndefine D\n", AddLine (AfterVar None (codes ".RECIPEPREFIX")) (NewRule (codes "${c} x.o") Double (codes "${g(}${c}")), NotMade 1 Reserved) ∷  -- mixed-074
    (codes ".\\\n\nexport .RECIPEPREFIX =.\n.RECIPEPREFIX?=a\nifdef\\\nB\n-x_9?= \\\n \\\n \n.RECIPEPREFIX=\\\n # c\n\tZ = 1\n\tendef\n", ChangeValue (One (Some 2)) (codes ".RECIPEPREFIX") (edits.Append (codes ".PHONY c")), NotMade 1 Reserved) ∷  -- mixed-075
    (codes ".\\\n\nexport .RECIPEPREFIX =.\n.RECIPEPREFIX?=a\nifdef\\\nB\n-x_9?= \\\n \\\n \n.RECIPEPREFIX=\\\n # c\n\tZ = 1\n\tendef\n", RemoveLines (OfRule None (codes "t")), NotMade 0 RecipePrefix) ∷  -- mixed-076
    (codes ".RECIPEPREFIX = X\nCC \\\r\n.RECIPEPREFIX ::= .\n ::=x.o #\r\nelse ifdef Q\r\n", ChangeValue (One None) (codes ".RECIPEPREFIX") (edits.Append []), NotMade 1 (BadArgument field.Value)) ∷  -- mixed-077
    (codes ".RECIPEPREFIX = X\nCC \\\r\n.RECIPEPREFIX ::= .\n ::=x.o #\r\nelse ifdef Q\r\n", ChangeValue (One None) (codes "Y") (edits.Set (codes "t")), NotMade 1 NoSuch) ∷  -- mixed-078
    (codes ".RECIPEPREFIX = -\n.$#c\nendef\nY = 1\n\tZ = 1\n", AddLine Bottom (NewAssign (codes "override") Append []), Accepted 1 0 (span 42 42 (codes "override +=\n") ∷ []) (Becomes (codes ".RECIPEPREFIX = -\n.$#c\nendef\nY = 1\n\tZ = 1\noverride +=\n"))) ∷  -- mixed-079
    (codes ".RECIPEPREFIX = -\n.$#c\nendef\nY = 1\n\tZ = 1\n", RemoveLines (OfAssign None (codes "Z")), Accepted 0 1 (span 35 42 [] ∷ []) (Becomes (codes ".RECIPEPREFIX = -\n.$#c\nendef\nY = 1\n"))) ∷  -- mixed-080
    []

answers_22 : map (λ row. account row.0 row.1) rows_22 ≡ map (λ row. row.2) rows_22
answers_22 = refl

abbrev rows_23 : List (List ℕ × Edit × Account)
rows_23 =
    (codes "a\r", ChangePrereqs (Some 2) (codes "$(a b)") (RemovePrereq (codes "a&b")), NotMade 1 NoSuch) ∷  -- mixed-081
    (codes "a\r", AddLine Bottom (NewAssign (codes "t1") Shell (codes "2 3 $(f {)")), NotMade 1 OpenLine) ∷  -- mixed-082
    (codes "$(a)\r\n$(a b)\\\r\n\\ \\\n\n\r\n $\\\n\\\n#$$=\n+ \\\r\n\t\\\n \0${\\\\\n\n\\ \\\n\\#\na:\\", AddLine Bottom (NewRule (codes "x.o %.o") Single []), NotMade 1 OpenLine) ∷  -- mixed-083
    (codes "$(a)\r\n$(a b)\\\r\n\\ \\\n\n\r\n $\\\n\\\n#$$=\n+ \\\r\n\t\\\n \0${\\\\\n\n\\ \\\n\\#\na:\\", AddLine Bottom (NewRule (codes "-include2 a") Single (codes "c $(q:;=|)")), NotMade 1 OpenLine) ∷  -- mixed-084
    (codes "a: b\r", AddLine Bottom (NewAssign (codes "define") PosixSimple (codes "foo")), NotMade 1 OpenLine) ∷  -- mixed-085
    (codes "a: b\r", ChangeValue (One None) (codes "override") (edits.Set []), NotMade 1 NoSuch) ∷  -- mixed-086
    (codes "> \n-include2:::\tx.o %.c\tx.o \n", AddRecipe None (codes "x.o") Last (codes "define"), NotMade 1 NoSuch) ∷  -- mixed-087
    (codes "> \n-include2:::\tx.o %.c\tx.o \n", AddLine Bottom (NewRule (codes "t") Single (codes "${g(}")), Accepted 1 0 (span 29 29 (codes "t: ${g(}\n") ∷ []) (Becomes (codes "> \n-include2:::\tx.o %.c\tx.o \nt: ${g(}\n"))) ∷  -- mixed-088
    (codes "ifdef A\na:\nendif\n\n\ty\nendef\\\n\n\\\nendif\n-x_9:::= \t$x\n", ChangeValue (One None) (codes "-x_9") (edits.Append (codes "$(s\\)")), Accepted 1 1 (span 49 49 (codes " $(s\\)") ∷ []) (Becomes (codes "ifdef A\na:\nendif\n\n\ty\nendef\\\n\n\\\nendif\n-x_9:::= \t$x $(s\\)\n"))) ∷  -- mixed-089
    (codes "ifdef A\na:\nendif\n\n\ty\nendef\\\n\n\\\nendif\n-x_9:::= \t$x\n", ChangePrereqs None (codes "a&b") (RemovePrereq (codes "a")), NotMade 1 NoSuch) ∷  -- mixed-090
    (codes " \\\n\na:\n;ndif\n # \r\nifdef A\n\n\tx\n", AddLine (BeforeRule None (codes "$(s\\)")) (NewAssign (codes ":") Recursive (codes "$x ${g(}")), NotMade 1 (BadArgument field.Name)) ∷  -- mixed-091
    (codes " \\\n\na:\n;ndif\n # \r\nifdef A\n\n\tx\n", RemoveLines (OfRule None (codes "a")), Accepted 0 1 (span 4 7 [] ∷ []) (Becomes (codes " \\\n\n;ndif\n # \r\nifdef A\n\n\tx\n"))) ∷  -- mixed-092
    (codes "ifdef A\na:\nendif\n\ty\nendef x\n${g(}::: %.o#\\\\\n>export\\\n\t\r\ndefine :::=\n$x \\\r\n \n", RemoveLines (OfAssign None (codes "define")), Accepted 0 1 (span 56 68 [] ∷ []) (Becomes (codes "ifdef A\na:\nendif\n\ty\nendef x\n${g(}::: %.o#\\\\\n>export\\\n\t\r\n$x \\\r\n \n"))) ∷  -- mixed-093
    (codes "ifdef A\na:\nendif\n\ty\nendef x\n${g(}::: %.o#\\\\\n>export\\\n\t\r\ndefine :::=\n$x \\\r\n \n", RenameTarget (codes "a") (codes "x.o"), Accepted 1 1 (span 8 9 (codes "x.o") ∷ []) (Becomes (codes "ifdef A\nx.o:\nendif\n\ty\nendef x\n${g(}::: %.o#\\\\\n>export\\\n\t\r\ndefine :::=\n$x \\\r\n \n"))) ∷  -- mixed-094
    (codes "ifdef B\na:\nifdef A\n\ty\nendif\n%.o: b \t\n", RenameTarget (codes "b") (codes "a"), NotMade 1 NoSuch) ∷  -- mixed-095
    (codes "ifdef B\na:\nifdef A\n\ty\nendif\n%.o: b \t\n", AddRecipe None (codes "a") Last (codes "e f \\ g"), NotMade 1 Straddles) ∷  -- mixed-096
    (codes "\ta\\\r\na : \t$$: \\\r\n |%.c # x ; y : z = 1\ndefine =${g(} #\nCC\\\r\n:=  ", ChangeValue (One (Some 2)) (codes "CC") (edits.Set (codes "%.c")), NotMade 1 NoSuch) ∷  -- mixed-097
    (codes "\ta\\\r\na : \t$$: \\\r\n |%.c # x ; y : z = 1\ndefine =${g(} #\nCC\\\r\n:=  ", AddLine (AfterVar (Some 0) (codes "define")) (NewAssign (codes "X") Recursive (codes "\\#")), NotMade 1 NoSuch) ∷  -- mixed-098
    (codes ".RECIPEPREFIX = >\n.RECIPEPREFIX = t\n-include2 :: \\\n  %.c d|= ; a&b = \\$x \r\n", ChangeValue (One (Some 1)) (codes ".RECIPEPREFIX") (edits.Set (codes "-include2")), NotMade 1 Reserved) ∷  -- mixed-099
    (codes ".RECIPEPREFIX = >\n.RECIPEPREFIX = t\n-include2 :: \\\n  %.c d|= ; a&b = \\$x \r\n", ChangeValue (One (Some 2)) (codes ".RECIPEPREFIX") (edits.Append (codes "$(p #) $(a b)")), NotMade 1 Reserved) ∷  -- mixed-100
    (codes ".RECIPEPREFIX = b\nY = ${u\n$(\n\t\n$(a b)\r\\\\\n\n\n", ChangeValue (One None) (codes "Y") (edits.Set (codes "$(s\\)")), Accepted 1 1 (span 22 25 (codes "$(s\\)") ∷ []) (Becomes (codes ".RECIPEPREFIX = b\nY = $(s\\)\n$(\n\t\n$(a b)\r\\\\\n\n\n"))) ∷  -- mixed-101
    (codes ".RECIPEPREFIX = b\nY = ${u\n$(\n\t\n$(a b)\r\\\\\n\n\n", AddLine Bottom (NewAssign (codes "t1") Append (codes "$(f {)")), Accepted 1 0 (span 43 43 (codes "t1 += $(f {)\n") ∷ []) (Becomes (codes ".RECIPEPREFIX = b\nY = ${u\n$(\n\t\n$(a b)\r\\\\\n\n\nt1 += $(f {)\n"))) ∷  -- mixed-102
    (codes "\t \n>\\\n\nendef\nfoo  &: $(q:;=|) \t%.o \t$(s\\) \n", RemoveLines (OfRecipe None (codes "foo") (ByNumber 1)), NotMade 0 Absent) ∷  -- mixed-103
    (codes "\t \n>\\\n\nendef\nfoo  &: $(q:;=|) \t%.o \t$(s\\) \n", AddRecipe None (codes " ") Last (codes "\tb"), NotMade 1 (BadArgument field.Target)) ∷  -- mixed-104
    (codes "else ifdef Q\nendif # c\ndefine F \\\n\ndefine E # c\ndefine \\\r\n += $$\t\nendef # c\nifneq\nifdef\\\nB\n", AddLine Bottom (NewAssign (codes "ifdef") Shell (codes "1")), NotMade 1 OpenDefine) ∷  -- mixed-105
    (codes "else ifdef Q\nendif # c\ndefine F \\\n\ndefine E # c\ndefine \\\r\n += $$\t\nendef # c\nifneq\nifdef\\\nB\n", SetRecipe (Some 1) (codes "$$") (ByNumber 4294967295) (codes "cÿ"), NotMade 1 NoSuch) ∷  -- mixed-106
    (codes "a&b $ ::b \t#\\\\\nendef # c\n \\\n\n ifdef A\nprivate CC !=\t$(q:;=|)$(w \\\n\nendef\n", AddLine (AfterVar None (codes "CC")) (NewRule (codes "t") Double (codes "%.c")), Accepted 1 0 (span 67 67 (codes "t:: %.c\n") ∷ []) (Becomes (codes "a&b $ ::b \t#\\\\\nendef # c\n \\\n\n ifdef A\nprivate CC !=\t$(q:;=|)$(w \\\n\nt:: %.c\nendef\n"))) ∷  -- mixed-107
    (codes "a&b $ ::b \t#\\\\\nendef # c\n \\\n\n ifdef A\nprivate CC !=\t$(q:;=|)$(w \\\n\nendef\n", ChangeValue (One (Some 0)) (codes "CC") (edits.Set []), NotMade 1 NoSuch) ∷  -- mixed-108
    (codes "+\telse\r\n+\telse\r\n", AddLine Bottom (NewAssign (codes "e") Shell []), Accepted 1 0 (span 16 16 (codes "e !=\r\n") ∷ []) (Becomes (codes "+\telse\r\n+\telse\r\ne !=\r\n"))) ∷  -- mixed-109
    (codes "+\telse\r\n+\telse\r\n", AddLine Bottom (NewAssign (codes "t1") PosixSimple (codes ": 1")), Accepted 1 0 (span 16 16 (codes "t1 ::= : 1\r\n") ∷ []) (Becomes (codes "+\telse\r\n+\telse\r\nt1 ::= : 1\r\n"))) ∷  -- mixed-110
    (codes "endif\r\nifdef\\\nB\r\n.RECIPEPREFIX ?=# c\r\n\\\nendef#c\r\nendef\r\n", RemoveLines (OfRecipe None (codes "t") (ByNumber 1)), NotMade 0 RecipePrefix) ∷  -- mixed-111
    (codes "endif\r\nifdef\\\nB\r\n.RECIPEPREFIX ?=# c\r\n\\\nendef#c\r\nendef\r\n", ChangeValue (One None) (codes "X") (edits.Set (codes "foo .PHONY")), NotMade 1 RecipePrefix) ∷  -- mixed-112
    (codes "\r\nifeq (a,$(\r\noverride .REC(EPREFIX ::= $x\r\nat: u\r\nendif$\nifneq\r\nifdef\\\nB\r\nifdef Q\ndefine D\n", AddRecipe (Some 0) (codes "at") Last [], NotMade 1 NoSuch) ∷  -- mixed-113
    (codes "\r\nifeq (a,$(\r\noverride .REC(EPREFIX ::= $x\r\nat: u\r\nendif$\nifneq\r\nifdef\\\nB\r\nifdef Q\ndefine D\n", RemoveLines (OfRule None (codes "at")), Accepted 0 1 (span 44 51 [] ∷ []) (Becomes (codes "\r\nifeq (a,$(\r\noverride .REC(EPREFIX ::= $x\r\nendif$\nifneq\r\nifdef\\\nB\r\nifdef Q\ndefine D\n"))) ∷  -- mixed-114
    (codes ".RECIPEPREFIX = -\n.RECIPEPREFIX:=\\\n\n.endef\n\tifdef Z\nendef :=  #\n", AddLine (AfterVar (Some 2) (codes ".RECIPEPREFIX")) (NewAssign (codes "-x_9") Simple (codes "= $x")), NotMade 1 Reserved) ∷  -- mixed-115
    (codes ".RECIPEPREFIX = -\n.RECIPEPREFIX:=\\\n\n.endef\n\tifdef Z\nendef :=  #\n", AddLine (AfterVar None (codes ".RECIPEPREFIX")) (NewAssign (codes "X") Immediate (codes "\\#")), NotMade 1 Reserved) ∷  -- mixed-116
    ([], AddLine Bottom (NewRule (codes ".PHONY ${c}") Double (codes "%.c")), Accepted 1 0 (span 0 0 (codes ".PHONY ${c}:: %.c\n") ∷ []) (Becomes (codes ".PHONY ${c}:: %.c\n"))) ∷  -- mixed-117
    ([], AddLine Bottom (NewAssign (codes "endef") Append []), Accepted 1 0 (span 0 0 (codes "endef +=\n") ∷ []) (Becomes (codes "endef +=\n"))) ∷  -- mixed-118
    (codes "override define .RECIPEPREFIX\r\n.RECIPEPREFIX ?=# c\nendif # c\n.RECIPEPREFIX=\\\n>\na: b\r\nendif # c\n", AddLine Bottom (NewAssign (codes "a.b") Simple (codes "$(f {)")), NotMade 1 RecipePrefix) ∷  -- mixed-119
    (codes "override define .RECIPEPREFIX\r\n.RECIPEPREFIX ?=# c\nendif # c\n.RECIPEPREFIX=\\\n>\na: b\r\nendif # c\n", AddLine Bottom (NewRule [] Double (codes "$(q:;=|) x.o")), NotMade 1 (BadArgument field.Targets)) ∷  -- mixed-120
    (codes "eZ = 1\n\t\\\nifdef A\nendif\ndefine D\r\ndefine E\nendef\n", ChangeValue (One (Some 0)) (codes "eZ") (edits.Append (codes "${g(}")), NotMade 1 NoSuch) ∷  -- mixed-121
    (codes "eZ = 1\n\t\\\nifdef A\nendif\ndefine D\r\ndefine E\nendef\n", RemoveLines (OfAssign (Some 4294967295) (codes "eZ")), NotMade 0 NoSuch) ∷  -- mixed-122
    (codes "\tx.o&:\\\n\\\r\na \n$(a b) &:: \t$x\\\n%.o \n \\\n\n#=\ra\n;\r\n\\defineendef\\\r\n!\n \nY = 1\n\tZ = 1\n", AddLine (AfterVar (Some 0) (codes "Z")) (NewRule [] Single (codes ".PHONY")), NotMade 1 (BadArgument field.Targets)) ∷  -- mixed-123
    (codes "\tx.o&:\\\n\\\r\na \n$(a b) &:: \t$x\\\n%.o \n \\\n\n#=\ra\n;\r\n\\defineendef\\\r\n!\n \nY = 1\n\tZ = 1\n", ChangeValue (One None) (codes "!#a+&") (edits.Set (codes "${g(}")), NotMade 1 (BadArgument field.Name)) ∷  -- mixed-124
    (codes ">$(X) := \\\n \\\n $(q:;=|) \\\n  b $(w \\\n \t\na foo: c\n\ty\n", ChangePrereqs None (codes "${g(}") (AddPrereq false (codes "$(q:;=|)")), NotMade 1 NoSuch) ∷  -- mixed-125
    (codes ">$(X) := \\\n \\\n $(q:;=|) \\\n  b $(w \\\n \t\na foo: c\n\ty\n", ChangeValue (One None) (codes ">$(X)") (edits.Append []), NotMade 1 (BadArgument field.Name)) ∷  -- mixed-126
    (codes "\t\n>\na&b:a&b\tx.o \\\n-include2\\\r\n\n${g(} $(q:;=|) &:\toverride\ta.b :=  foo \n\n|\t", RemoveLines (OfRecipe None (codes "a&b") (ByNumber 2)), NotMade 0 Absent) ∷  -- mixed-127
    (codes "\t\n>\na&b:a&b\tx.o \\\n-include2\\\r\n\n${g(} $(q:;=|) &:\toverride\ta.b :=  foo \n\n|\t", RemoveLines (OfAssign None (codes " ")), NotMade 0 (BadArgument field.Name)) ∷  -- mixed-128
    (codes "-include2\t.PHONY :: A += ${u$$\t\r\n\r\n", RenameTarget (codes "a&b") (codes "$x"), NotMade 0 NoSuch) ∷  -- mixed-129
    (codes "-include2\t.PHONY :: A += ${u$$\t\r\n\r\n", AddLine (BeforeVar None (codes "A")) (NewRule (codes "$(p #)") Double (codes "$(q:;=|) $$")), NotMade 1 NoSuch) ∷  -- mixed-130
    []

answers_23 : map (λ row. account row.0 row.1) rows_23 ≡ map (λ row. row.2) rows_23
answers_23 = refl

abbrev rows_24 : List (List ℕ × Edit × Account)
rows_24 =
    (codes "\t\\\n\noverride?= \t # \\\nb : \t$(q:;=|)\tb \\\r\n define D\nX = 1\n", RemoveLines (OfAssign None (codes ">q")), NotMade 0 (BadArgument field.Name)) ∷  -- mixed-131
    (codes "\t\\\n\noverride?= \t # \\\nb : \t$(q:;=|)\tb \\\r\n define D\nX = 1\n", AddRecipe None (codes "t") Last (codes "x"), NotMade 1 NoSuch) ∷  -- mixed-132
    (codes ".RECIPEPREFIX = a\r\nfoo: :\tb :%.o \r\noverride define F \\\n\r\n", AddLine (BeforeVar None (codes ".RECIPEPREFIX")) (NewRule (codes "b") Double (codes "$(q:;=|)")), NotMade 1 Reserved) ∷  -- mixed-133
    (codes "b\n\r#$\n", AddLine Bottom (NewAssign (codes "a.b") Recursive (codes "%.o$(a b)  .PHONY")), Accepted 1 0 (span 6 6 (codes "a.b = %.o$(a b)  .PHONY\n") ∷ []) (Becomes (codes "b\n\r#$\na.b = %.o$(a b)  .PHONY\n"))) ∷  -- mixed-134
    (codes "b\n\r#$\n", AddLine (BeforeVar (Some 2) (codes "X$:")) (NewAssign (codes "a.b") Conditional (codes "$(q:;=|)")), NotMade 1 (BadArgument field.Place)) ∷  -- mixed-135
    (codes "endef?(?endef\0\n\\\n\t\nendif\\endif\\", AddLine Bottom (NewRule (codes "x.o") Single (codes "a foo")), NotMade 1 OpenLine) ∷  -- mixed-136
    (codes "ifdef B\na:\nifdef A\n\ty\nendif\n", AddLine Bottom (NewAssign (codes "define") Immediate (codes "1 :")), Accepted 1 0 (span 28 28 (codes "define :::= 1 :\n") ∷ []) (Becomes (codes "ifdef B\na:\nifdef A\n\ty\nendif\ndefine :::= 1 :\n"))) ∷  -- mixed-137
    (codes "\t\\\nendef # c\r\ndefine X =\r\n\telse\r\n$(X):= $(p #) \r\nifdef\\\nB\r\n$(X):= $(p #) \r\n", AddLine Bottom (NewRule (codes "$(q:;=|)") Double (codes "$(q:;=|) .PHONY")), NotMade 1 OpenDefine) ∷  -- mixed-138
    (codes "\ta \\\n\tb\n\ta \\\n\tb\n &:Y :::=$(p #) \\\n  \n\ta\\\\define D\n", AddLine Bottom (NewAssign (codes "a.b") Immediate []), Accepted 1 0 (span 50 50 (codes "a.b :::=\n") ∷ []) (Becomes (codes "\ta \\\n\tb\n\ta \\\n\tb\n &:Y :::=$(p #) \\\n  \n\ta\\\\define D\na.b :::=\n"))) ∷  -- mixed-139
    (codes "\ta \\\n\tb\n\ta \\\n\tb\n &:Y :::=$(p #) \\\n  \n\ta\\\\define D\n", AddLine Bottom (NewAssign (codes "A") PosixSimple (codes "x.o")), Accepted 1 0 (span 50 50 (codes "A ::= x.o\n") ∷ []) (Becomes (codes "\ta \\\n\tb\n\ta \\\n\tb\n &:Y :::=$(p #) \\\n  \n\ta\\\\define D\nA ::= x.o\n"))) ∷  -- mixed-140
    (codes "a:\nifdef A\n\ty\n!", AddRecipe None (codes "a") Last (codes "$("), NotMade 1 Straddles) ∷  -- mixed-141
    ([], AddLine Bottom (NewRule (codes "$(s\\) include") Double (codes "$$")), NotMade 1 Reserved) ∷  -- mixed-142
    (codes "endef\r\n\techoendefa # b\nexport private define .RECIPEPREFIX\r\no-$(a b) !=   # \r\r\nCC:::= $#\nndef\n.RECIPEPREFIX = >\na: b\n\tx\n", ChangeValue (One None) (codes "a.b") (edits.Set (codes "x.o")), NotMade 1 RecipePrefix) ∷  -- mixed-143
    (codes "endef\r\n\techoendefa # b\nexport private define .RECIPEPREFIX\r\no-$(a b) !=   # \r\r\nCC:::= $#\nndef\n.RECIPEPREFIX = >\na: b\n\tx\n", ChangePrereqs None (codes "t") (AddPrereq true (codes "%.c")), NotMade 1 RecipePrefix) ∷  -- mixed-144
    (codes ".RECIPEPREFIX = Y\naendef\r\n>endif\r\n${g(} :::x.o $(a b) %.c \r", ChangeValue (One None) (codes ".RECIPEPREFIX") (edits.Set (codes "=")), NotMade 1 Reserved) ∷  -- mixed-145
    (codes ".RECIPEPREFIX = Y\naendef\r\n>endif\r\n${g(} :::x.o $(a b) %.c \r", ChangeValue (One None) (codes ".RECIPEPREFIX") (edits.Set (codes "2 3 -include2")), NotMade 1 Reserved) ∷  -- mixed-146
    (codes ".RECIPEPREFIX = %\nx.o y: \n.define Q\nc  &: \\\n\t|  foo\\\r\n\n \ndefine D\r\ndefine E\nendef\n", ChangePrereqs None (codes "y") (RemovePrereq (codes "$(a b)")), NotMade 1 Absent) ∷  -- mixed-147
    (codes ".RECIPEPREFIX = %\nx.o y: \n.define Q\nc  &: \\\n\t|  foo\\\r\n\n \ndefine D\r\ndefine E\nendef\n", RemoveLines (OfRule None (codes "y")), NotMade 0 (SharedRule 2)) ∷  -- mixed-148
    (codes ".RECIPEPREFIX = e\n.CIPREFIX = .\nifdef\\\nB\n", RemoveLines (OfAssign (Some 1) (codes ".RECIPEPREFIX")), NotMade 0 Reserved) ∷  -- mixed-149
    (codes "X\\\n\\\n!=  \n $(s\\): :   \\\n \\\n \nY =  \t# c\n$(s\\) &: $(f {) \\\n.PHONY -include2 | t  c\nundefine X\ndefine ::= | $(q:;=|) \ndefine D\r\ndefine E\nendef\n", ChangePrereqs None (codes "$(s\\)") (RemovePrereq (codes "t")), Accepted 1 1 (span 75 77 [] ∷ []) (Becomes (codes "X\\\n\\\n!=  \n $(s\\): :   \\\n \\\n \nY =  \t# c\n$(s\\) &: $(f {) \\\n.PHONY -include2 |  c\nundefine X\ndefine ::= | $(q:;=|) \ndefine D\r\ndefine E\nendef\n"))) ∷  -- mixed-150
    (codes "endif\r\nifeq (a,$(b\r\n.RECIPEPREFIX:::=t\r\noverride undefine X\r\nifdef\\\nB\r\n\tZ = 1\r\ndefine E # c\r\nY = 2\n\t# c\noverride undefine X\r\n", AddLine Bottom (NewAssign (codes "-x_9") Recursive (codes "c")), NotMade 1 RecipePrefix) ∷  -- mixed-151
    (codes "endif\r\nifeq (a,$(b\r\n.RECIPEPREFIX:::=t\r\noverride undefine X\r\nifdef\\\nB\r\n\tZ = 1\r\ndefine E # c\r\nY = 2\n\t# c\noverride undefine X\r\n", AddLine Bottom (NewAssign (codes "X") Conditional (codes "-include2")), NotMade 1 RecipePrefix) ∷  -- mixed-152
    (codes ".RECIPEPREFIX:::=\\\n>\n\\\n\t\nendef # c\nX\t+=  \nifdef\\\nB\n# c\\", AddLine (AfterVar None (codes ".RECIPEPREFIX")) (NewRule (codes "${c} .PHONY") Double []), NotMade 1 Reserved) ∷  -- mixed-153
    (codes ".RECIPEPREFIX:::=\\\n>\n\\\n\t\nendef # c\nX\t+=  \nifdef\\\nB\n# c\\", ChangeValue (One (Some 0)) (codes ".RECIPEPREFIX") (edits.Append (codes "2 3 :")), NotMade 1 Reserved) ∷  -- mixed-154
    (codes "=#$\r\nifneq\r\n$(a b) &:$(q:;=|) c\tx.o \r\na: b\n\tx\nifneq\r\n", AddLine Bottom (NewRule (codes "$(a b)") Double []), Accepted 1 0 (span 53 53 (codes "$(a b)::\r\n") ∷ []) (Becomes (codes "=#$\r\nifneq\r\n$(a b) &:$(q:;=|) c\tx.o \r\na: b\n\tx\nifneq\r\n$(a b)::\r\n"))) ∷  -- mixed-155
    (codes "ifdef\\#\n\tendef\nY = 1\n\tZ = 1\n", RemoveLines (OfAssign None (codes "Y")), NotMade 0 Leans) ∷  -- mixed-156
    (codes ".RECIPEPREFIX = Y\n.RECIPEPREFIX= # c\r\nenf\r\n\t\\\nelse ifdef Q\nexport\\\n endef = \\\\ \n", RemoveLines (OfAssign None (codes "endef")), Accepted 0 1 (span 59 80 [] ∷ []) (Becomes (codes ".RECIPEPREFIX = Y\n.RECIPEPREFIX= # c\r\nenf\r\n\t\\\nelse ifdef Q\n"))) ∷  -- mixed-157
    (codes "\\b\n \n\\ \\\n\r\n\n", AddLine Bottom (NewAssign (codes "endef") Recursive []), Accepted 1 0 (span 12 12 (codes "endef =\n") ∷ []) (Becomes (codes "\\b\n \n\\ \\\n\r\n\nendef =\n"))) ∷  -- mixed-158
    (codes "\\b\n \n\\ \\\n\r\n\n", AddLine Bottom (NewRule (codes "c") Double (codes "c $(s\\)")), Accepted 1 0 (span 12 12 (codes "c:: c $(s\\)\n") ∷ []) (Becomes (codes "\\b\n \n\\ \\\n\r\n\nc:: c $(s\\)\n"))) ∷  -- mixed-159
    (codes ".RECIPEPREFIX = x\nifd\0f A\r\n# x ; y } z = 1\r\n.RECIPEPREFIX:=\\\n:\nifndef X # c\n\tb: b b | c b\n", ChangeValue (One (Some 2)) (codes ".RECIPEPREFIX") (edits.Append (codes "x.o")), NotMade 1 Reserved) ∷  -- mixed-160
    (codes " a.b= \t\\\n\r\n \\\n\tY:::=  \r\n-include2 ${g(}  &\\\n$(q:;=|)  $(f {) $x #\\\\\r\n", AddLine (BeforeVar None (codes "a.b")) (NewRule (codes ".PHONY") Double (codes "define a&b")), Accepted 1 0 (span 0 0 (codes ".PHONY:: define a&b\n") ∷ []) (Becomes (codes ".PHONY:: define a&b\n a.b= \t\\\n\r\n \\\n\tY:::=  \r\n-include2 ${g(}  &\\\n$(q:;=|)  $(f {) $x #\\\\\r\n"))) ∷  -- mixed-161
    (codes " a.b= \t\\\n\r\n \\\n\tY:::=  \r\n-include2 ${g(}  &\\\n$(q:;=|)  $(f {) $x #\\\\\r\n", ChangeValue (One None) (codes "a.b") (edits.Append (codes "x.o $(s\\)")), Accepted 1 1 (span 9 9 (codes "x.o $(s\\)") ∷ []) (Becomes (codes " a.b= \t\\\nx.o $(s\\)\r\n \\\n\tY:::=  \r\n-include2 ${g(}  &\\\n$(q:;=|)  $(f {) $x #\\\\\r\n"))) ∷  -- mixed-162
    ([], AddLine Bottom (NewAssign (codes "ifdef") Recursive (codes "%.o")), Accepted 1 0 (span 0 0 (codes "ifdef = %.o\n") ∷ []) (Becomes (codes "ifdef = %.o\n"))) ∷  -- mixed-163
    ([], AddLine Bottom (NewAssign (codes "CC") Recursive []), Accepted 1 0 (span 0 0 (codes "CC =\n") ∷ []) (Becomes (codes "CC =\n"))) ∷  -- mixed-164
    (codes "a:\\", AddLine Bottom (NewRule (codes "a") Single (codes "$x")), NotMade 1 OpenLine) ∷  -- mixed-165
    (codes "t1 !==\\\n\\$x b : #c \\\n d\r\n\r\n", AddLine (BeforeVar None (codes "t1")) (NewAssign (codes "t1") Simple []), Accepted 1 0 (span 0 0 (codes "t1 :=\n") ∷ []) (Becomes (codes "t1 :=\nt1 !==\\\n\\$x b : #c \\\n d\r\n\r\n"))) ∷  -- mixed-166
    (codes "a foo: c\n\ty\n", SetRecipe None (codes "a") (ByNumber 1) (codes "y # z"), Accepted 1 1 (span 10 11 (codes "y # z") ∷ []) (Becomes (codes "a foo: c\n\ty # z\n"))) ∷  -- mixed-167
    (codes "a foo: c\n\ty\n", ChangePrereqs None (codes "a") (RemovePrereq (codes "$$")), NotMade 1 Absent) ∷  -- mixed-168
    (codes "eZ = $1\ndefine X =\n%.c:\\\n|a${g(}  %.c \n\n\tx\n", RemoveLines (OfAssign None (codes "eZ")), Accepted 0 1 (span 0 8 [] ∷ []) (Becomes (codes "define X =\n%.c:\\\n|a${g(}  %.c \n\n\tx\n"))) ∷  -- mixed-169
    (codes "eZ = $1\ndefine X =\n%.c:\\\n|a${g(}  %.c \n\n\tx\n", RemoveLines (OfAssign None (codes "eZ")), Accepted 0 1 (span 0 8 [] ∷ []) (Becomes (codes "define X =\n%.c:\\\n|a${g(}  %.c \n\n\tx\n"))) ∷  -- mixed-170
    (codes "CC::= \t$ %.c\t\\\ninclude a\r\n \\\n\\\n-include2&: $(f {)  $$\t| $x\\\n\\\n${c}\r\nexport .RECIPEPREFIX = Ã\r\nendef#c\n", RemoveLines (OfAssign (Some 4294967295) (codes ".RECIPEPREFIX")), NotMade 0 Reserved) ∷  -- mixed-171
    (codes "CC::= \t$ %.c\t\\\ninclude a\r\n \\\n\\\n-include2&: $(f {)  $$\t| $x\\\n\\\n${c}\r\nexport .RECIPEPREFIX = Ã\r\nendef#c\n", RemoveLines (OfRule None (codes "-include2")), NotMade 0 RecipePrefix) ∷  -- mixed-172
    (codes ".RECIPEPREFIX = -\na:\nifdef A\n\ty\n.R&CIPEPREFIX = dine\r\n>)\0=&\\!{\n)\\\n\n.RECIPEPREFIX = -\n", RemoveLines (OfRecipe None (codes "a") (ByNumber 1)), NotMade 0 RecipePrefix) ∷  -- mixed-173
    (codes ".RECIPEPREFIX+=\\\n>\\\\define D\n\n.RECIPEPREFIX+=\\\n>\\\\define D\n", ChangeValue (One (Some 2)) (codes ".RECIPEPREFIX") (edits.Set (codes "2 3")), NotMade 1 Reserved) ∷  -- mixed-174
    (codes "ifneq\nendif\\\ndefine D\n", AddLine Bottom (NewAssign (codes "-x_9") Simple (codes "\\$x")), Accepted 1 0 (span 22 22 (codes "-x_9 := \\$x\n") ∷ []) (Becomes (codes "ifneq\nendif\\\ndefine D\n-x_9 := \\$x\n"))) ∷  -- mixed-175
    (codes "ifneq\nendif\\\ndefine D\n", AddLine Bottom (NewAssign (codes "endef") Simple (codes "\\#")), Accepted 1 0 (span 22 22 (codes "endef := \\#\n") ∷ []) (Becomes (codes "ifneq\nendif\\\ndefine D\nendef := \\#\n"))) ∷  -- mixed-176
    (codes ".RECIPEPREFIX ::=\\\n\r\na:  |\t$(s\\) \r\n$(q:;=|) :  ; :#\0\r\nendef\r\n>%.c ::   ;\\\n\t\\\r\n\\\n\\\n\r\nendif\r\na\\=\\\n\\\n:=\\\n\\\n\\\\\t\r\nendif\r\ndefine D\nX = 1\n", ChangePrereqs None (codes ">%.c") (RemovePrereq (codes "x.o")), NotMade 1 Absent) ∷  -- mixed-177
    (codes "Y = $(m \\\n n\nb\\\n\tx.o:  \t;\t #\\\\\\\n\nexport\tCC\\\n\t:::= \n# c\n\t\\\nendef\n>x\naa \\\n\tb\n\tt: u\nexport .RECIPEPREFIX=\\\na\nfoo: $(p #) \n", AddLine (BeforeVar (Some 0) (codes ".RECIPEPREFIX")) (NewAssign (codes "a.b") Simple []), NotMade 1 Reserved) ∷  -- mixed-178
    (codes "Y = $(m \\\n n\nb\\\n\tx.o:  \t;\t #\\\\\\\n\nexport\tCC\\\n\t:::= \n# c\n\t\\\nendef\n>x\naa \\\n\tb\n\tt: u\nexport .RECIPEPREFIX=\\\na\nfoo: $(p #) \n", ChangePrereqs None (codes "foo") (RemovePrereq (codes "$(p #)")), NotMade 1 RecipePrefix) ∷  -- mixed-179
    (codes "define D\ndefine D\n", AddLine Bottom (NewAssign (codes "t1") Immediate (codes "$$")), NotMade 1 OpenDefine) ∷  -- mixed-180
    []

answers_24 : map (λ row. account row.0 row.1) rows_24 ≡ map (λ row. row.2) rows_24
answers_24 = refl

abbrev rows_25 : List (List ℕ × Edit × Account)
rows_25 =
    (codes "$(p #) \t: %.\no: \na\r", RenameTarget (codes "o") (codes "$(p #)"), NotMade 1 Taken) ∷  -- mixed-181
    (codes "$(p #) \t: %.\no: \na\r", AddLine Bottom (NewRule (codes "b") Single (codes "%.c a")), NotMade 1 OpenLine) ∷  -- mixed-182
    (codes ".RECIPEPREFIX = X\nY = x\\\\\\\n\t${c}\\\n\\\n%.c&::\\\n\t |$(f {) #\\\\\r\nb:\t$(s\\)  x.o\\\n\t\\\r\n|  # x ; y : z =:1\r\nX!\\\n=){", SetRecipe None (codes "b") (ByNumber 1) (codes "cÿ"), Accepted 1 1 (span 99 105 (codes "cÿ") ∷ []) (Becomes (codes ".RECIPEPREFIX = X\nY = x\\\\\\\n\t${c}\\\n\\\n%.c&::\\\n\t |$(f {) #\\\\\r\nb:\t$(s\\)  x.o\\\n\t\\\r\n|  # x ; y : z =:1\r\nXcÿ"))) ∷  -- mixed-183
    (codes ".RECIPEPREIX = :\nfoo: foo\ni\\def\\\0\n \\\n.RECIPEPREFIX::=\n\n\ta\\\n\\\nendef\nifdef= c# x ; y : z = 1}", AddLine (AfterVar None (codes ".RECIPEPREIX")) (NewAssign (codes "CC") Append []), Accepted 1 0 (span 17 17 (codes "CC +=\n") ∷ []) (Becomes (codes ".RECIPEPREIX = :\nCC +=\nfoo: foo\ni\\def\\\0\n \\\n.RECIPEPREFIX::=\n\n\ta\\\n\\\nendef\nifdef= c# x ; y : z = 1}"))) ∷  -- mixed-184
    (codes "Y = $(\nelse\r\nprivate define:=  \r\nCC = \\\n  ${c} $(w \\\n  $(f {) \r\n #\\\\\r\n", ChangeValue (One None) (codes "Y") (edits.Append (codes "${g(}")), NotMade 1 OpenValue) ∷  -- mixed-185
    (codes ":a:(\t\\\n>b=##\n\r\n", AddLine Bottom (NewRule (codes "-include2") Double []), Accepted 1 0 (span 15 15 (codes "-include2::\n") ∷ []) (Becomes (codes ":a:(\t\\\n>b=##\n\r\n-include2::\n"))) ∷  -- mixed-186
    (codes ":a:(\t\\\n>b=##\n\r\n", AddLine Bottom (NewAssign (codes "define") Recursive (codes "a \\#")), Accepted 1 0 (span 15 15 (codes "define = a \\#\n") ∷ []) (Becomes (codes ":a:(\t\\\n>b=##\n\r\ndefine = a \\#\n"))) ∷  -- mixed-187
    (codes ".RECIPEPREFIX = t\nx.o y: $(p #)\nea \\\n.RECIPEPREFIX +=.\n\tb\n\tendef\n>\n.RECIPEPREFIX :::= \na.b ?=  \t# x ; y : z = 1\n", AddLine (BeforeRule None (codes "y")) (NewAssign (codes "e") Simple (codes "%.o")), NotMade 1 RecipePrefix) ∷  -- mixed-188
    (codes ".RECIPEPREFIX = t\nx.o y: $(p #)\nea \\\n.RECIPEPREFIX +=.\n\tb\n\tendef\n>\n.RECIPEPREFIX :::= \na.b ?=  \t# x ; y : z = 1\n", AddLine (AfterVar (Some 2) (codes ".RECIPEPREFIX")) (NewRule (codes "$(f {)") Single (codes "c $$")), NotMade 1 Reserved) ∷  -- mixed-189
    (codes "ifdef B\nfoo: b\n\tx\nifdef A\n\ty\nendif\nt : $x: \t$(a b) ${g(} a \\\n \\\n \nt \n#;=\\#dedefineine)\n", AddLine (BeforeRule None (codes "t")) (NewAssign (codes "-x_9") Recursive (codes "$(a b)")), Accepted 1 0 (span 35 35 (codes "-x_9 = $(a b)\n") ∷ []) (Becomes (codes "ifdef B\nfoo: b\n\tx\nifdef A\n\ty\nendif\n-x_9 = $(a b)\nt : $x: \t$(a b) ${g(} a \\\n \\\n \nt \n#;=\\#dedefineine)\n"))) ∷  -- mixed-190
    (codes ">a\\\nendef\\\n\n>a\\\nendef\\\n\n", AddLine Bottom (NewAssign (codes "A") Recursive []), Accepted 1 0 (span 24 24 (codes "A =\n") ∷ []) (Becomes (codes ">a\\\nendef\\\n\n>a\\\nendef\\\n\nA =\n"))) ∷  -- mixed-191
    (codes ">a\\\nendef\\\n\n>a\\\nendef\\\n\n", AddLine Bottom (NewAssign (codes "override") Shell (codes ": $(f {)")), Accepted 1 0 (span 24 24 (codes "override != : $(f {)\n") ∷ []) (Becomes (codes ">a\\\nendef\\\n\n>a\\\nendef\\\n\noverride != : $(f {)\n"))) ∷  -- mixed-192
    (codes ".RECIPEPREFIX = .\n$(q:;=|):%.o\r\nfoo: \n>q \\\n  ::=\\\n\tx.o\\\n\\\n#\0\n>t: u", ChangePrereqs (Some 1) (codes "$(q:;=|)") (RemovePrereq (codes "%.o")), Accepted 1 1 (span 27 30 [] ∷ []) (Becomes (codes ".RECIPEPREFIX = .\n$(q:;=|):\r\nfoo: \n>q \\\n  ::=\\\n\tx.o\\\n\\\n#\0\n>t: u"))) ∷  -- mixed-193
    (codes ">define Q\naa \\\n\tb\nendef\nelse\n\t \nelse\n \\\n\n\t \n", AddLine Bottom (NewAssign (codes "define") Immediate (codes "$(q:;=|)")), Accepted 1 0 (span 44 44 (codes "define :::= $(q:;=|)\n") ∷ []) (Becomes (codes ">define Q\naa \\\n\tb\nendef\nelse\n\t \nelse\n \\\n\n\t \ndefine :::= $(q:;=|)\n"))) ∷  -- mixed-194
    (codes ">define Q\naa \\\n\tb\nendef\nelse\n\t \nelse\n \\\n\n\t \n", AddLine Bottom (NewRule (codes "${c}") Single (codes "$(s\\)")), Accepted 1 0 (span 44 44 (codes "${c}: $(s\\)\n") ∷ []) (Becomes (codes ">define Q\naa \\\n\tb\nendef\nelse\n\t \nelse\n \\\n\n\t \n${c}: $(s\\)\n"))) ∷  -- mixed-195
    (codes "?$( (a)\\\r${(}$( (a)\n", AddLine Bottom (NewRule (codes "a&b") Single (codes "a&b")), Accepted 1 0 (span 20 20 (codes "a&b: a&b\n") ∷ []) (Becomes (codes "?$( (a)\\\r${(}$( (a)\na&b: a&b\n"))) ∷  -- mixed-196
    (codes "ifdef A\na: b\n\tx\nendif\n\ty\n.RCIPEPREFIX = -\r\n", SetRecipe None (codes "a") (ByNumber 2) (codes "\tb"), Accepted 1 1 (span 23 24 (codes "\tb") ∷ []) (Becomes (codes "ifdef A\na: b\n\tx\nendif\n\t\tb\n.RCIPEPREFIX = -\r\n"))) ∷  -- mixed-197
    (codes ".RECIPEPREFIX = :\n| a\t: ${c} $(q:;=|)|$(f {)\t${c} \nifdef :=\\\r\nt\t$(f {) \\\n  $(p #)\n\techo a # b\ndefine D\nX = 1\n", AddLine Bottom (NewAssign (codes "CC") PosixSimple (codes "$#")), NotMade 1 OpenDefine) ∷  -- mixed-198
    (codes ".RECIPEPREFIX = :\n| a\t: ${c} $(q:;=|)|$(f {)\t${c} \nifdef :=\\\r\nt\t$(f {) \\\n  $(p #)\n\techo a # b\ndefine D\nX = 1\n", RemoveLines (OfAssign None (codes "ifdef")), Accepted 0 1 (span 51 82 [] ∷ []) (Becomes (codes ".RECIPEPREFIX = :\n| a\t: ${c} $(q:;=|)|$(f {)\t${c} \n\techo a # b\ndefine D\nX = 1\n"))) ∷  -- mixed-199
    ([], AddLine Bottom (NewAssign (codes "define") PosixSimple (codes "|")), Accepted 1 0 (span 0 0 (codes "define ::= |\n") ∷ []) (Becomes (codes "define ::= |\n"))) ∷  -- mixed-200
    (codes "define F \\\n\nifdef A\n", AddLine Bottom (NewAssign (codes "endef") Conditional (codes "\\# 1")), NotMade 1 OpenDefine) ∷  -- mixed-201
    (codes "override define F \\\n\r\n$(f {):::b \\\r\n $(s\\)  b# c\r\n.RECIPEPREFIX = a\r\nendif\r\n.RECIPEPREFIX=\\\n>>\r\n\\\ndefine D\r\n", AddLine Bottom (NewAssign (codes "define") PosixSimple []), NotMade 1 OpenDefine) ∷  -- mixed-202
    (codes "-x_9 = a\\:b\\ \\\n$# \nifdef Q\ndefine D\n", AddLine Bottom (NewRule (codes "${c}") Single []), NotMade 1 OpenDefine) ∷  -- mixed-203
    (codes "a\n\n!\\\r\n\n\n+\n#\n\0\r\nb: b b | c b\n\na\n", RenameTarget (codes "b") (codes "$x"), Accepted 1 1 (span 16 17 (codes "$x") ∷ span 19 20 (codes "$x") ∷ span 21 22 (codes "$x") ∷ span 27 28 (codes "$x") ∷ []) (Becomes (codes "a\n\n!\\\r\n\n\n+\n#\n\0\r\n$x: $x $x | c $x\n\na\n"))) ∷  -- mixed-204
    (codes "a\n\n!\\\r\n\n\n+\n#\n\0\r\nb: b b | c b\n\na\n", AddLine Bottom (NewRule (codes "${g(} %.c") Single (codes "xifndef")), Accepted 1 0 (span 32 32 (codes "${g(} %.c: xifndef\n") ∷ []) (Becomes (codes "a\n\n!\\\r\n\n\n+\n#\n\0\r\nb: b b | c b\n\na\n${g(} %.c: xifndef\n"))) ∷  -- mixed-205
    (codes ".RECIPEPREFIX = X\n.RECIPEPREFIX = >\na:: %.o ${g(} .PHONY\\\n\\\n#c \\\n d\r\na :  ;c \\\n  1 \n.RECIPEPREFIX = >\r\n\tt: : $x| %.o  c\n\tifdef Z\n", ChangePrereqs (Some 2) (codes "a") (RemovePrereq (codes "x.o")), NotMade 1 Absent) ∷  -- mixed-206
    (codes "e\ndef # c\r\n\\\n\t\r\n-includeb c{\r\nendif\r\n", AddLine Bottom (NewRule (codes "$(s\\)") Double (codes "$(q:;=|)")), Accepted 1 0 (span 37 37 (codes "$(s\\):: $(q:;=|)\n") ∷ []) (Becomes (codes "e\ndef # c\r\n\\\n\t\r\n-includeb c{\r\nendif\r\n$(s\\):: $(q:;=|)\n"))) ∷  -- mixed-207
    (codes "e\ndef # c\r\n\\\n\t\r\n-includeb c{\r\nendif\r\n", AddLine Bottom (NewRule (codes "%.c $(f {)") Single (codes "x.o $(a b)")), Accepted 1 0 (span 37 37 (codes "%.c $(f {): x.o $(a b)\n") ∷ []) (Becomes (codes "e\ndef # c\r\n\\\n\t\r\n-includeb c{\r\nendif\r\n%.c $(f {): x.o $(a b)\n"))) ∷  -- mixed-208
    (codes "endef x\r\noverride undefine X\r\nY?=a\\:b \r\noverride define E # c\r\nifeq (a,$(b\r\nifeq (a,$(b\r\nifdef Q\ndefine D\n", AddLine (AfterVar None (codes "Y")) (NewAssign (codes "ifdef") Immediate []), Accepted 1 0 (span 40 40 (codes "ifdef :::=\r\n") ∷ []) (Becomes (codes "endef x\r\noverride undefine X\r\nY?=a\\:b \r\nifdef :::=\r\noverride define E # c\r\nifeq (a,$(b\r\nifeq (a,$(b\r\nifdef Q\ndefine D\n"))) ∷  -- mixed-209
    (codes ".RECIPEPREFIX = e\na::: x.o %.o \na&b\\\n\t: -include2: %.o b#\0\n #\nfoo : \\\r\n  \nt1\\\n\t:::=${c} \\", ChangePrereqs None (codes "foo") (RemovePrereq (codes "define")), NotMade 1 Absent) ∷  -- mixed-210
    (codes "\t\\\n\\ \\\n\\#\nY = 2\n\t# c\n\n\t\\\n\\ \\\n\\#\n", AddLine (AfterVar None (codes "Y")) (NewRule (codes "$(a b)") Single (codes "$(f {)")), NotMade 1 Leans) ∷  -- mixed-211
    (codes "Y = $(\ntdefine Q\nb& : $x\t| $(a b) \\\n\nexport X  :::= t #\0\nfoo d| :\\\r\n-x_9 = \\$x foo \n # \r\n%.o $(s\\):\t%.c\t$(p #) \n\nexport X  :::= t #\0\n", ChangePrereqs None (codes "$(s\\)") (AddPrereq true (codes "a&b")), Accepted 1 1 (span 110 110 (codes " | a&b") ∷ []) (Becomes (codes "Y = $(\ntdefine Q\nb& : $x\t| $(a b) \\\n\nexport X  :::= t #\0\nfoo d| :\\\r\n-x_9 = \\$x foo \n # \r\n%.o $(s\\):\t%.c\t$(p #) | a&b \n\nexport X  :::= t #\0\n"))) ∷  -- mixed-212
    (codes ".endif\n>\n", AddLine Bottom (NewRule (codes "c") Double (codes "$(a b) c")), Accepted 1 0 (span 9 9 (codes "c:: $(a b) c\n") ∷ []) (Becomes (codes ".endif\n>\nc:: $(a b) c\n"))) ∷  -- mixed-213
    (codes ">a\\\\\n #\\\\\ndefine ::= \\\n #\\\\\\\n\n", AddLine Bottom (NewAssign (codes "e") Shell (codes "${c}")), Accepted 1 0 (span 30 30 (codes "e != ${c}\n") ∷ []) (Becomes (codes ">a\\\\\n #\\\\\ndefine ::= \\\n #\\\\\\\n\ne != ${c}\n"))) ∷  -- mixed-214
    (codes ">a\\\\\n #\\\\\ndefine ::= \\\n #\\\\\\\n\n", AddLine Bottom (NewAssign (codes "t1") Immediate (codes ":")), Accepted 1 0 (span 30 30 (codes "t1 :::= :\n") ∷ []) (Becomes (codes ">a\\\\\n #\\\\\ndefine ::= \\\n #\\\\\\\n\nt1 :::= :\n"))) ∷  -- mixed-215
    (codes ".RECIPEPREFIX = %\nCC =  \noverride .RECIPEPREFIX =\\\n\\\n.RECIPEPREFIX =\n\tdefine Q\\\ntifdef Z\nifdef\\\nB\n\t\\\nexport private define X =\n\\\nendef#c\n", ChangeValue (One None) (codes "CC") (edits.Append (codes "a\\:b")), NotMade 1 RecipePrefix) ∷  -- mixed-216
    (codes "ifdef \\\n.RECIPEPREFIX = >\n:=  \n $$ &: \r\nt: a&b ${g(} \t$(p #) ", AddLine Bottom (NewRule (codes "${c}") Double (codes ".PHONY foo")), Accepted 1 0 (span 61 61 (codes "\n${c}:: .PHONY foo\n") ∷ []) (Becomes (codes "ifdef \\\n.RECIPEPREFIX = >\n:=  \n $$ &: \r\nt: a&b ${g(} \t$(p #) \n${c}:: .PHONY foo\n"))) ∷  -- mixed-217
    (codes "Y = $(\nel\t\\\n.RECIPEPREFIX::=\\\n>\n\ne", AddLine (BeforeVar None (codes "Y")) (NewAssign (codes "CC") PosixSimple (codes "$(p #)")), Accepted 1 0 (span 0 0 (codes "CC ::= $(p #)\n") ∷ []) (Becomes (codes "CC ::= $(p #)\nY = $(\nel\t\\\n.RECIPEPREFIX::=\\\n>\n\ne"))) ∷  -- mixed-218
    (codes "Y = $(\nel\t\\\n.RECIPEPREFIX::=\\\n>\n\ne", ChangeValue (One None) (codes "Y") (edits.Set (codes "; %.o")), Accepted 1 1 (span 4 6 (codes "; %.o") ∷ []) (Becomes (codes "Y = ; %.o\nel\t\\\n.RECIPEPREFIX::=\\\n>\n\ne"))) ∷  -- mixed-219
    (codes "ifdef B\nfoo: b\n\tx\nifdef A\nelse\n\tz\nendif\nendef x\nifndef X # c\n", ChangePrereqs None (codes "foo") (RemovePrereq (codes "$(s\\)")), NotMade 1 Absent) ∷  -- mixed-220
    (codes "ifdef B\nfoo: b\n\tx\nifdef A\nelse\n\tz\nendif\nendef x\nifndef X # c\n", SetRecipe None (codes "foo") (ByNumber 2) [], Accepted 1 1 (span 32 33 [] ∷ []) (Becomes (codes "ifdef B\nfoo: b\n\tx\nifdef A\nelse\n\t\nendif\nendef x\nifndef X # c\n"))) ∷  -- mixed-221
    (codes "\r\n$)\nifdef Q\ndefine D\n", AddLine Bottom (NewRule (codes "t") Single (codes "$(p #) b")), NotMade 1 OpenDefine) ∷  -- mixed-222
    (codes "endif # c\nendif\\\nifdef\\\nB\nx.o  &:$(q:;=|) \\\n", AddLine Bottom (NewAssign (codes "ifdef") Recursive (codes "$(q:;=|) 2 3")), NotMade 1 OpenLine) ∷  -- mixed-223
    (codes "Y = a $\n.RECIPEPREFIX = $$\nCC :=c# x ; y : z = 1\n", ChangeValue (One (Some 1)) (codes "CC") (edits.Append (codes "$$")), NotMade 1 RecipePrefix) ∷  -- mixed-224
    (codes "\ty\r\nifeq (a,$(b\nendef#c\nY = 1\n\tZ = 1\n\n\ty\r\n", ChangeValue (One None) (codes "Y") (edits.Append (codes ";")), Accepted 1 1 (span 29 29 (codes " ;") ∷ []) (Becomes (codes "\ty\r\nifeq (a,$(b\nendef#c\nY = 1 ;\n\tZ = 1\n\n\ty\r\n"))) ∷  -- mixed-225
    (codes "\ty\r\nifeq (a,$(b\nendef#c\nY = 1\n\tZ = 1\n\n\ty\r\n", AddLine (BeforeVar None (codes "Z")) (NewRule (codes "%.c") Single (codes "%.c")), NotMade 1 Leans) ∷  -- mixed-226
    (codes ">\\\n.t:\ndefine D\n", RenameTarget (codes ">") (codes "%.c"), Accepted 1 1 (span 0 1 (codes "%.c") ∷ []) (Becomes (codes "%.c\\\n.t:\ndefine D\n"))) ∷  -- mixed-227
    (codes "$x $(q:;=|): $(a b) \\\n  foo\\\n\t\\\r\n;\\\r\n$\\\n \r\nifdef \\\r\n ::= a \r\nA?=: $ $( \r\nexport Y\\\n\\\n:= \r\n>\r\n\tendef\r\n>\r\n", RemoveLines (OfRule None (codes "$x")), NotMade 0 (SharedRule 2)) ∷  -- mixed-228
    (codes "!-;_9 ?= \n=a\r", AddLine Bottom (NewAssign (codes "e") Simple (codes "$(f {)")), NotMade 1 OpenLine) ∷  -- mixed-229
    (codes "!-;_9 ?= \n=a\r", AddLine Bottom (NewRule (codes "-include2") Single (codes "$&")), NotMade 1 OpenLine) ∷  -- mixed-230
    []

answers_25 : map (λ row. account row.0 row.1) rows_25 ≡ map (λ row. row.2) rows_25
answers_25 = refl

abbrev rows_26 : List (List ℕ × Edit × Account)
rows_26 =
    (codes "ifdef A\na:\n# c\nendif\n\n\ty\ndefine F \\\n\r\n\t# c\nx.o y: \r\naendef\n", ChangePrereqs None (codes "a") (RemovePrereq (codes "t")), NotMade 1 Absent) ∷  -- mixed-231
    (codes " #\n>x.o\\ \\\n:a $(a b) \nfoo\\\r\n$(a b):c\\\r\noverride .RECIPEPREFIX?=\\\n\nt \n\tdefine Q\nendef x\ninclude:  $(p #)\\\n\t\\\r\na\t.PHONY;$(m \\\n n) \n\telse\nX = a\\", AddLine (AfterVar None (codes "X")) (NewRule (codes "a") Single (codes "%.o $(s\\)")), NotMade 1 OpenLine) ∷  -- mixed-232
    (codes "ifdef Q\ndefine D\n", AddLine Bottom (NewRule (codes "$$") Single (codes "$(p #)")), NotMade 1 OpenDefine) ∷  -- mixed-233
    (codes "ifdef Q\ndefine D\n", AddLine Bottom (NewAssign (codes "e") Immediate []), NotMade 1 OpenDefine) ∷  -- mixed-234
    (codes "endef +=$#\\\n\n A \\\r\n ::=\ta \n", ChangeValue (One None) (codes "endef") (edits.Append (codes "%.o ;")), Accepted 1 1 (span 10 10 (codes " %.o ;") ∷ []) (Becomes (codes "endef +=$# %.o ;\\\n\n A \\\r\n ::=\ta \n"))) ∷  -- mixed-235
    (codes "endef +=$#\\\n\n A \\\r\n ::=\ta \n", AddLine Bottom (NewRule (codes "${g(}") Single (codes "%.o ${g(}")), Accepted 1 0 (span 27 27 (codes "${g(}: %.o ${g(}\n") ∷ []) (Becomes (codes "endef +=$#\\\n\n A \\\r\n ::=\ta \n${g(}: %.o ${g(}\n"))) ∷  -- mixed-236
    (codes ".RECIPEPREFIX = x\nendif # c\n$(s\\)&:: t # x ; y : z = 1\n.RECIPEPREFIX=\\\ne\n \n#\0\nifdef\\\nB\n\n.RECIPEPREFIX = x\n", ChangePrereqs None (codes "$(s\\)") (AddPrereq false (codes "a&b")), NotMade 1 RecipePrefix) ∷  -- mixed-237
    (codes ".RECIPEPREFIX = x\nendif # c\n$(s\\)&:: t # x ; y : z = 1\n.RECIPEPREFIX=\\\ne\n \n#\0\nifdef\\\nB\n\n.RECIPEPREFIX = x\n", AddRecipe None (codes "$(s\\)") Last (codes "x"), NotMade 1 RecipePrefix) ∷  -- mixed-238
    (codes "Y = $(m \\\n n\n\t\r\nendef\r\nendef\r\nendif\r\n>endef # c\r\ndefine?=  # \r\r\n", ChangeValue (One None) (codes "Y") (edits.Append (codes "x.o")), NotMade 1 OpenValue) ∷  -- mixed-239
    (codes ".RECIPEPREFIX=\\\n\\x\nifeq (a,$(b\n \ndefine F \\\n\nexport\\\n\t\\\r\nCC ::= ; 1 \ndefine F \\\n\nendif\nelse\na:\\", RemoveLines (OfRule None (codes "%.o")), NotMade 0 RecipePrefix) ∷  -- mixed-240
    (codes ".RECIPEPREFIX = a\nunexport Y\na: \n\t#\0\nfoo: \n\tx\n>define Q\nelse ifdef Qifdef Q\ndefine D\n\n.RECIPEPREFIX = a\n", ChangePrereqs None (codes "foo") (AddPrereq true (codes "$(q:;=|)")), Accepted 1 1 (span 41 41 (codes " | $(q:;=|)") ∷ []) (Becomes (codes ".RECIPEPREFIX = a\nunexport Y\na: \n\t#\0\nfoo: | $(q:;=|) \n\tx\n>define Q\nelse ifdef Qifdef Q\ndefine D\n\n.RECIPEPREFIX = a\n"))) ∷  -- mixed-241
    (codes "endef x\r\n\\\nifdef A\\\n.RECIPEPREFIX ::= # c\\\nendef x\n", AddLine Bottom (NewRule (codes "$(q:;=|)") Double []), Accepted 1 0 (span 51 51 (codes "$(q:;=|)::\r\n") ∷ []) (Becomes (codes "endef x\r\n\\\nifdef A\\\n.RECIPEPREFIX ::= # c\\\nendef x\n$(q:;=|)::\r\n"))) ∷  -- mixed-242
    (codes "endef x\r\n\\\nifdef A\\\n.RECIPEPREFIX ::= # c\\\nendef x\n", AddLine Bottom (NewRule (codes "$$ $(s\\)") Double (codes "-include2")), Accepted 1 0 (span 51 51 (codes "$$ $(s\\):: -include2\r\n") ∷ []) (Becomes (codes "endef x\r\n\\\nifdef A\\\n.RECIPEPREFIX ::= # c\\\nendef x\n$$ $(s\\):: -include2\r\n"))) ∷  -- mixed-243
    (codes "foo: b\n\tx\nifdef A\n\ty\n.&ECIPEPREFI = d\n\ty\r\nb:: c\ta\t${c}; \n\n\nifdef A\n", RenameTarget (codes "b") (codes "x.o"), Accepted 2 2 (span 5 6 (codes "x.o") ∷ span 42 43 (codes "x.o") ∷ []) (Becomes (codes "foo: x.o\n\tx\nifdef A\n\ty\n.&ECIPEPREFI = d\n\ty\r\nx.o:: c\ta\t${c}; \n\n\nifdef A\n"))) ∷  -- mixed-244
    (codes ".RECIPEPREFIX = Y\nifdef A\na: b\n\tx\nendif\n\n\ty\n.RECIPEPREFIX ?=\\x\n \\\n\tifeq (a,$(b\nendif\nendif\n", ChangePrereqs None (codes "a") (AddPrereq true (codes "$x")), NotMade 1 RecipePrefix) ∷  -- mixed-245
    (codes " #\0\n=${g(: : \\\r\nendef x.o \n\telseCC ::= x.o %.o\t$x\\\n\nt :%.c \t", RenameTarget (codes "t") (codes "${g(}"), Accepted 1 1 (span 52 53 (codes "${g(}") ∷ []) (Becomes (codes " #\0\n=${g(: : \\\r\nendef x.o \n\telseCC ::= x.o %.o\t$x\\\n\n${g(} :%.c \t"))) ∷  -- mixed-246
    (codes " $\\\n\n\n;\t$\\\r\n\n", AddLine Bottom (NewRule (codes "x.o") Single (codes "$(f {)")), Accepted 1 0 (span 13 13 (codes "x.o: $(f {)\n") ∷ []) (Becomes (codes " $\\\n\n\n;\t$\\\r\n\nx.o: $(f {)\n"))) ∷  -- mixed-247
    (codes " export\\\r\nCC += $(w \\\n\r\n>$(a b)  ::\\\n\r\n", ChangeValue (One None) (codes "CC") (edits.Set (codes ".PHONY a\\:b")), Accepted 1 1 (span 16 22 (codes ".PHONY a\\:b") ∷ []) (Becomes (codes " export\\\r\nCC += .PHONY a\\:b\r\n>$(a b)  ::\\\n\r\n"))) ∷  -- mixed-248
    (codes " export\\\r\nCC += $(w \\\n\r\n>$(a b)  ::\\\n\r\n", AddRecipe None (codes ">$(a b)") Last (codes "x"), Accepted 1 0 (span 39 39 (codes "\tx\r\n") ∷ []) (Becomes (codes " export\\\r\nCC += $(w \\\n\r\n>$(a b)  ::\\\n\r\n\tx\r\n"))) ∷  -- mixed-249
    (codes "${c} &::c: x.o a&b \t\nendif\nA+= \0\\# %.o\n", AddLine Bottom (NewRule (codes "b") Double []), Accepted 1 0 (span 39 39 (codes "b::\n") ∷ []) (Becomes (codes "${c} &::c: x.o a&b \t\nendif\nA+= \0\\# %.o\nb::\n"))) ∷  -- mixed-250
    (codes "override define D\r\nexport private define F \\\n\r\noverride define \r\nifdef\\\nB\r\n", AddLine Bottom (NewAssign (codes "endef") Recursive []), NotMade 1 OpenDefine) ∷  -- mixed-251
    (codes "override define D\r\nexport private define F \\\n\r\noverride define \r\nifdef\\\nB\r\n", AddLine Bottom (NewAssign (codes "e") Immediate (codes "\\$x $(q:;=|)")), NotMade 1 OpenDefine) ∷  -- mixed-252
    (codes ".RECIPEPREFIX = %\n.RECIPEPREFIX \na\r\nt1::= a| $x \n${g(}&:: $(s\\)\t: \ta&ba&b \nfoo: \n\\\n#\\\\\na\r\n", SetRecipe None (codes "foo") (ByNumber 0) (codes "define"), NotMade 1 Absent) ∷  -- mixed-253
    (codes "Y = $(m \\\n n\nendif\r\n.RECIPEPREFIX+=\\\n$x\r\naa\\\\\r\nendif\r\n\ty\r\r\nendef\r\n", ChangePrereqs None (codes "t") (AddPrereq false (codes "$(a b)")), NotMade 1 RecipePrefix) ∷  -- mixed-254
    (codes ".RECIPEPREFIX = e\nifdef A\na:\nendif\n\n\ty\n\tifdef Z\r\n>\r\nendef\\\n\r\n\tZ = 1\r\nifeq (a,$(b\r\n>\\\n\r\n\n\n", RenameTarget (codes "a") (codes ".PHONY"), Accepted 1 1 (span 26 27 (codes ".PHONY") ∷ []) (Becomes (codes ".RECIPEPREFIX = e\nifdef A\n.PHONY:\nendif\n\n\ty\n\tifdef Z\r\n>\r\nendef\\\n\r\n\tZ = 1\r\nifeq (a,$(b\r\n>\\\n\r\n\n\n"))) ∷  -- mixed-255
    (codes "Y = a $\nendif # c\r\nfoo: ${c}\n #\0\n\\\n\t\n\telse\n", AddRecipe None (codes "foo") Last (codes ">"), Accepted 1 0 (span 43 43 (codes "\t>\n") ∷ []) (Becomes (codes "Y = a $\nendif # c\r\nfoo: ${c}\n #\0\n\\\n\t\n\telse\n\t>\n"))) ∷  -- mixed-256
    (codes "Y = ${u\n.RECIPEPREFIX = e\r\nb&:: $(s\\) |\r\n>q +=: b .PHONY \r\nx.o ${g(} : :\\\n\t\\\r\n|  \t\n\ta\\\\\r\nt1:= \\\r\n.RECIPEPREFIX ::=\\\n# c\n $(a b) \r\n\ta \\\n\tb\n", AddRecipe None (codes "b") Last (codes "define"), Accepted 1 0 (span 41 41 (codes "edefine\n") ∷ []) (Becomes (codes "Y = ${u\n.RECIPEPREFIX = e\r\nb&:: $(s\\) |\r\nedefine\n>q +=: b .PHONY \r\nx.o ${g(} : :\\\n\t\\\r\n|  \t\n\ta\\\\\r\nt1:= \\\r\n.RECIPEPREFIX ::=\\\n# c\n $(a b) \r\n\ta \\\n\tb\n"))) ∷  -- mixed-257
    (codes "Y = ${u\n.RECIPEPREFIX = e\r\nb&:: $(s\\) |\r\n>q +=: b .PHONY \r\nx.o ${g(} : :\\\n\t\\\r\n|  \t\n\ta\\\\\r\nt1:= \\\r\n.RECIPEPREFIX ::=\\\n# c\n $(a b) \r\n\ta \\\n\tb\n", AddRecipe None (codes "b") Last (codes "define"), Accepted 1 0 (span 41 41 (codes "edefine\n") ∷ []) (Becomes (codes "Y = ${u\n.RECIPEPREFIX = e\r\nb&:: $(s\\) |\r\nedefine\n>q +=: b .PHONY \r\nx.o ${g(} : :\\\n\t\\\r\n|  \t\n\ta\\\\\r\nt1:= \\\r\n.RECIPEPREFIX ::=\\\n# c\n $(a b) \r\n\ta \\\n\tb\n"))) ∷  -- mixed-258
    (codes ".RECIPEPREFIX = e\r\na&b: \r\na: x.o\n\ta \\\n\tb\n\ta\\\r\n>b\r\nifneq\r\nifneq\na&b: \r\n", RemoveLines (OfRecipe None (codes "a") (ByNumber 0)), NotMade 0 Absent) ∷  -- mixed-259
    (codes ".RECIPEPREFIX = a\n$(s\\) : %.o  $$\t\\\n ;$xt \nx .o ::: \ta&b |\t$(q:;=|)\\\n\t$(f {) \n.RECIPEPREFIX?=\\\n\n\\\n\0$\\\n(a#\n", ChangePrereqs None (codes "$(s\\)") (AddPrereq true (codes "$(p #)")), NotMade 1 RecipePrefix) ∷  -- mixed-260
    (codes ".RECIPEPREFIX = a\n$(s\\) : %.o  $$\t\\\n ;$xt \nx .o ::: \ta&b |\t$(q:;=|)\\\n\t$(f {) \n.RECIPEPREFIX?=\\\n\n\\\n\0$\\\n(a#\n", SetRecipe None (codes "$(s\\)") (ByNumber 1) [], NotMade 1 RecipePrefix) ∷  -- mixed-261
    (codes "# \r\noverride define D\r\nexport private define D\r\n.\nRECIPEPREFIX = >\n.RECIPEPREFIX = >>\r\nendif\\\nX = a\\", AddLine Bottom (NewAssign (codes "a.b") PosixSimple (codes "%.o")), NotMade 1 OpenLine) ∷  -- mixed-262
    (codes "# \r\noverride define D\r\nexport private define D\r\n.\nRECIPEPREFIX = >\n.RECIPEPREFIX = >>\r\nendif\\\nX = a\\", AddLine Bottom (NewRule (codes "$(p #)") Double []), NotMade 1 OpenLine) ∷  -- mixed-263
    (codes "\r\n \\\n\tCC ::=$ a\\:b \r\nY = 1\n\tZ = 1\n", ChangeValue (One None) (codes "Y") (edits.Append (codes "|")), Accepted 1 1 (span 26 26 (codes " |") ∷ []) (Becomes (codes "\r\n \\\n\tCC ::=$ a\\:b \r\nY = 1 |\n\tZ = 1\n"))) ∷  -- mixed-264
    (codes "\\\ninclude a\r\n-include2: \\\r\n  # \\\r\n#c \\\n d\r\nifdef\\\nB\r\n", AddRecipe None (codes "-include2") Last (codes "$("), Accepted 1 0 (span 43 43 (codes "\t$(\n") ∷ []) (Becomes (codes "\\\ninclude a\r\n-include2: \\\r\n  # \\\r\n#c \\\n d\r\n\t$(\nifdef\\\nB\r\n"))) ∷  -- mixed-265
    (codes "ifdef\\\nB\nifdef A\noverride define .RECIPEPREFIX\na.b := \\\n  \na$(\nexport private define .RECIPEPREFIX\n ifeq (a,$(b\n", AddLine Bottom (NewAssign (codes "a.b") Shell (codes "foo ${g(}")), NotMade 1 RecipePrefix) ∷  -- mixed-266
    (codes "ifdef\\\nB\nifdef A\noverride define .RECIPEPREFIX\na.b := \\\n  \na$(\nexport private define .RECIPEPREFIX\n ifeq (a,$(b\n", AddLine Bottom (NewAssign (codes "endef") Immediate (codes ":")), NotMade 1 RecipePrefix) ∷  -- mixed-267
    (codes ".RECIPEPREFIX = %\naa\\\r\n>b\n \\\n\toverride define .RECIPEPREFIX\na: %.o\n\t\n\n \\\n\toverride define .RECIPEPREFIX\n", AddLine (BeforeRule (Some 0) (codes ".PHONY")) (NewAssign (codes "X") Conditional (codes "$(p #) c")), NotMade 1 RecipePrefix) ∷  -- mixed-268
    (codes "\ta\\\r\n>b\nendef x\nelse\nendef # c\nendef\\\n\n", AddLine Bottom (NewRule (codes "c") Single (codes "a&b")), Accepted 1 0 (span 39 39 (codes "c: a&b\r\n") ∷ []) (Becomes (codes "\ta\\\r\n>b\nendef x\nelse\nendef # c\nendef\\\n\nc: a&b\r\n"))) ∷  -- mixed-269
    (codes ".RECIPEPREFIX = %", AddLine Bottom (NewRule (codes "a&b") Double (codes "$$")), Accepted 1 0 (span 17 17 (codes "\na&b:: $$\n") ∷ []) (Becomes (codes ".RECIPEPREFIX = %\na&b:: $$\n"))) ∷  -- mixed-270
    (codes "t1 :=  \nx.o y: \n\t#\nx.o \t${g(}: a#\nY = 1\n\tZ = 1\n", ChangePrereqs (Some 2) (codes "x.o") (AddPrereq true (codes "$$")), Accepted 1 1 (span 32 32 (codes " | $$") ∷ []) (Becomes (codes "t1 :=  \nx.o y: \n\t#\nx.o \t${g(}: a | $$#\nY = 1\n\tZ = 1\n"))) ∷  -- mixed-271
    (codes "endif\r\nifndef X # c\r\n", AddLine Bottom (NewRule (codes "$(a b)") Double []), Accepted 1 0 (span 21 21 (codes "$(a b)::\r\n") ∷ []) (Becomes (codes "endif\r\nifndef X # c\r\n$(a b)::\r\n"))) ∷  -- mixed-272
    (codes "\n\\a\n\0\t\\\n\n\na: b\n\tx\n", RenameTarget (codes "a") (codes "a"), NotMade 1 Taken) ∷  -- mixed-273
    (codes "ifdef A\na: b\n\tx\nendif\n\n\ty\nprivate \\\n  endef :=\\\n\t= \n\\\nundefine X", RemoveLines (OfRecipe None (codes "a") (ByNumber 2)), Accepted 0 1 (span 23 26 [] ∷ []) (Becomes (codes "ifdef A\na: b\n\tx\nendif\n\nprivate \\\n  endef :=\\\n\t= \n\\\nundefine X"))) ∷  -- mixed-274
    (codes ".RECIPEPREFIX = t\nY = ${u\n", RemoveLines (OfAssign None (codes "Y")), Accepted 0 1 (span 18 26 [] ∷ []) (Becomes (codes ".RECIPEPREFIX = t\n"))) ∷  -- mixed-275
    (codes "Y! ! :\na.b::=${c} -include2\\\\\n$$\n-x_9:= c \t\nx.o y: $$\nifndef X #c\n# c\ndefine \\\n  :::= |\\\n\t\\\r\n%.o \\\n \\\n b\\\n\t\\\r\n#\0\na:\\", RemoveLines (OfRecipe None (codes "!") (ByNumber 0)), NotMade 0 Absent) ∷  -- mixed-276
    (codes "endef\nelse ifdef Q\ndefine X =\\\nendif\nt: foo |  #\\\\\\\n\n$x  x.o: $$ \\\n  a # \r\nifeq (a,$(b\n\t \na:\\", AddLine Bottom (NewAssign (codes "ifdef") Append (codes "1")), NotMade 1 OpenLine) ∷  -- mixed-277
    (codes "endef\nelse ifdef Q\ndefine X =\\\nendif\nt: foo |  #\\\\\\\n\n$x  x.o: $$ \\\n  a # \r\nifeq (a,$(b\n\t \na:\\", AddLine Bottom (NewAssign (codes "t") Immediate (codes "a\\:b")), NotMade 1 OpenLine) ∷  -- mixed-278
    (codes ".RECIPEPREFIX = f\nt\\\n\nifdef +=2 3\n \\\n\nendif\nifneq\noverride .RECIPEPREFIX?=\\\nt\nendef\n", ChangeValue (One None) (codes "ifdef") (edits.Set (codes "|")), NotMade 1 RecipePrefix) ∷  -- mixed-279
    (codes ".RECIPEPREFIX = f\nt\\\n\nifdef +=2 3\n \\\n\nendif\nifneq\noverride .RECIPEPREFIX?=\\\nt\nendef\n", AddLine Bottom (NewAssign (codes "-x_9") Recursive (codes "1")), NotMade 1 RecipePrefix) ∷  -- mixed-280
    []

answers_26 : map (λ row. account row.0 row.1) rows_26 ≡ map (λ row. row.2) rows_26
answers_26 = refl

abbrev rows_27 : List (List ℕ × Edit × Account)
rows_27 =
    (codes "\t\r\n #\\\\\\\n.RECIPEPEFIX:=>\r\n", AddLine Bottom (NewRule (codes "c") Double []), Accepted 1 0 (span 26 26 (codes "c::\r\n") ∷ []) (Becomes (codes "\t\r\n #\\\\\\\n.RECIPEPEFIX:=>\r\nc::\r\n"))) ∷  -- mixed-281
    (codes "vpath %.c a\n${c} :  \ndefine\\\n\\\n&: CC += \nifndef X # c\n", ChangePrereqs None (codes "${c}") (AddPrereq true (codes "c")), Accepted 1 1 (span 18 18 (codes " | c") ∷ []) (Becomes (codes "vpath %.c a\n${c} : | c  \ndefine\\\n\\\n&: CC += \nifndef X # c\n"))) ∷  -- mixed-282
    (codes "vpath %.c a\n${c} :  \ndefine\\\n\\\n&: CC += \nifndef X # c\n", ChangePrereqs None (codes "${c}") (RemovePrereq (codes "${c}")), NotMade 1 Absent) ∷  -- mixed-283
    (codes "\ta \\\n\tb\r\n\tendef\r\nendef ?= foo a&b $( \r\n", AddLine Bottom (NewRule (codes "$(a b) $(p #)") Double (codes "${c} a")), Accepted 1 0 (span 39 39 (codes "$(a b) $(p #):: ${c} a\n") ∷ []) (Becomes (codes "\ta \\\n\tb\r\n\tendef\r\nendef ?= foo a&b $( \r\n$(a b) $(p #):: ${c} a\n"))) ∷  -- mixed-284
    ([], AddLine Bottom (NewRule (codes "foo") Double []), Accepted 1 0 (span 0 0 (codes "foo::\n") ∷ []) (Becomes (codes "foo::\n"))) ∷  -- mixed-285
    (codes "endef  !=${g(} \\\n=  \r\ndefine E # c\r\nendef\n\\\n>x\\\nxport private define E # c\nendef#c\n", ChangeValue (One None) (codes "endef") (edits.Set (codes "%.o %.o")), Accepted 1 1 (span 9 18 (codes "%.o %.o") ∷ []) (Becomes (codes "endef  !=%.o %.o  \r\ndefine E # c\r\nendef\n\\\n>x\\\nxport private define E # c\nendef#c\n"))) ∷  -- mixed-286
    (codes "Y = a $\n\t\0{c}: ${g(}\\\n# \\\n", ChangeValue (One None) (codes "Y") (edits.Append (codes "c")), NotMade 1 OpenValue) ∷  -- mixed-287
    (codes "ifdef != ; \\ $\\\n  oo: foo c\n\ta\\\n", ChangeValue (One None) (codes "ifdef") (edits.Set (codes ".PHONY")), Accepted 1 1 (span 9 27 (codes ".PHONY") ∷ []) (Becomes (codes "ifdef != .PHONY\n\ta\\\n"))) ∷  -- mixed-288
    (codes "ifdef != ; \\ $\\\n  oo: foo c\n\ta\\\n", ChangeValue (One None) (codes "ifdef") (edits.Set []), Accepted 1 1 (span 9 27 [] ∷ []) (Becomes (codes "ifdef != \n\ta\\\n"))) ∷  -- mixed-289
    (codes "Y = $(\n-include2 ::override\\\n.RECIPEPREFIX +=>>\n\t\\\r\n:= \r\n", ChangeValue (One (Some 1)) (codes "Y") (edits.Set []), Accepted 1 1 (span 4 6 [] ∷ []) (Becomes (codes "Y = \n-include2 ::override\\\n.RECIPEPREFIX +=>>\n\t\\\r\n:= \r\n"))) ∷  -- mixed-290
    (codes "Y = $(\n-include2 ::override\\\n.RECIPEPREFIX +=>>\n\t\\\r\n:= \r\n", ChangeValue (One None) (codes "Y") (edits.Set (codes "$(f {)")), Accepted 1 1 (span 4 6 (codes "$(f {)") ∷ []) (Becomes (codes "Y = $(f {)\n-include2 ::override\\\n.RECIPEPREFIX +=>>\n\t\\\r\n:= \r\n"))) ∷  -- mixed-291
    (codes "\\\n\t::\tt1 ?= #\\\\\r\n$(q:;=|) \t$(s\\)  ::: $(s\\)\t.PHONY -include2|  x.o $x \r\n.RECIPEPREFIX :=.\n overrid\r\ne\t+=${g(}%.c\t\\\\\\.RECIPEPREFIX :=.\n", ChangeValue (One None) (codes "e") (edits.Append (codes "${c}")), Accepted 1 1 (span 133 133 (codes " ${c}") ∷ []) (Becomes (codes "\\\n\t::\tt1 ?= #\\\\\r\n$(q:;=|) \t$(s\\)  ::: $(s\\)\t.PHONY -include2|  x.o $x \r\n.RECIPEPREFIX :=.\n overrid\r\ne\t+=${g(}%.c\t\\\\\\.RECIPEPREFIX :=. ${c}\n"))) ∷  -- mixed-292
    ([], AddLine Bottom (NewRule (codes "$$") Single (codes "a&b")), Accepted 1 0 (span 0 0 (codes "$$: a&b\n") ∷ []) (Becomes (codes "$$: a&b\n"))) ∷  -- mixed-293
    ([], AddLine Bottom (NewRule (codes "x.o") Double (codes "$(a b) $(p #)")), Accepted 1 0 (span 0 0 (codes "x.o:: $(a b) $(p #)\n") ∷ []) (Becomes (codes "x.o:: $(a b) $(p #)\n"))) ∷  -- mixed-294
    (codes "Y = x\\\\\\\n\texport private define F \\\n\na: $(p #)\n\t#\\\\\naa\\\\\n\telse\nX$:\\\n\t= \t# \\\n \\\n", RemoveLines (OfRecipe None (codes "a") (ByNumber 1)), Accepted 0 1 (span 47 52 [] ∷ []) (Becomes (codes "Y = x\\\\\\\n\texport private define F \\\n\na: $(p #)\naa\\\\\n\telse\nX$:\\\n\t= \t# \\\n \\\n"))) ∷  -- mixed-295
    (codes "\telse\n>a \\\n\tb\n>$(f {) &:  \n a.b ::= # x ; y : z = 1\n#\nifdef\\\nB\nifdef\\\nB\n", RemoveLines (OfAssign None (codes "a.b")), Accepted 0 1 (span 27 52 [] ∷ []) (Becomes (codes "\telse\n>a \\\n\tb\n>$(f {) &:  \n#\nifdef\\\nB\nifdef\\\nB\n"))) ∷  -- mixed-296
    (codes "ifdef A\na:\nendif\n\n\ty\n%.c \t%.o &: \\\r\n $(f {)\\\r\n\nx.o: \n \\\n\ta.b \\\n  ?=   \n.RECIPEPREFIX\\\n\t\\\r\n:= \0 ", ChangePrereqs (Some 1) (codes "x.o") (AddPrereq false (codes "define")), Accepted 1 1 (span 51 51 (codes " define") ∷ []) (Becomes (codes "ifdef A\na:\nendif\n\n\ty\n%.c \t%.o &: \\\r\n $(f {)\\\r\n\nx.o: define \n \\\n\ta.b \\\n  ?=   \n.RECIPEPREFIX\\\n\t\\\r\n:= \0 "))) ∷  -- mixed-297
    (codes "\na&b::: -include2  $(p #)\n\tZ = 1\n\n\\\nifdef ::= \\\n \\\n \na: \n\telse\ndefine += %.o \\\\\\ ", RenameTarget (codes "a") (codes "$(a b)"), Accepted 1 1 (span 53 54 (codes "$(a b)") ∷ []) (Becomes (codes "\na&b::: -include2  $(p #)\n\tZ = 1\n\n\\\nifdef ::= \\\n \\\n \n$(a b): \n\telse\ndefine += %.o \\\\\\ "))) ∷  -- mixed-298
    (codes "\na&b::: -include2  $(p #)\n\tZ = 1\n\n\\\nifdef ::= \\\n \\\n \na: \n\telse\ndefine += %.o \\\\\\ ", ChangeValue (One None) (codes "ifdef") (edits.Append (codes "$(f {)")), Accepted 1 1 (span 52 52 (codes "$(f {)") ∷ []) (Becomes (codes "\na&b::: -include2  $(p #)\n\tZ = 1\n\n\\\nifdef ::= \\\n \\\n $(f {)\na: \n\telse\ndefine += %.o \\\\\\ "))) ∷  -- mixed-299
    (codes "ifdef B\nfoo: b\n\tx\nelse\n\ty\n", SetRecipe None (codes "foo") (ByNumber 2) (codes "y # z"), Accepted 1 1 (span 24 25 (codes "y # z") ∷ []) (Becomes (codes "ifdef B\nfoo: b\n\tx\nelse\n\ty # z\n"))) ∷  -- mixed-300
    (codes "X +=${c} \n$(q:;=|) ::a&b \t:foo & $|  ${g(} \\\n \\\n ${c} ; a\\ \noverride define F \\\n\nendif\n", AddLine Bottom (NewAssign (codes "override") Simple (codes "%.c")), NotMade 1 OpenDefine) ∷  -- mixed-301
    (codes ".RECIPEPREFIX = X\nY = $(\nifdef\\\nB\r\noverride export export X$  \\\n  :=\n-x_9 !=a \nendef#c\r\nendef\\\n\r\nendif # c\\\nifdef\\\nB\\\n&", ChangeValue (One None) (codes "-x_9") (edits.Append (codes "a\\:b")), Accepted 1 1 (span 77 77 (codes " a\\:b") ∷ []) (Becomes (codes ".RECIPEPREFIX = X\nY = $(\nifdef\\\nB\r\noverride export export X$  \\\n  :=\n-x_9 !=a a\\:b \nendef#c\r\nendef\\\n\r\nendif # c\\\nifdef\\\nB\\\n&"))) ∷  -- mixed-302
    (codes ".RECIPEPREFIX = X\nY = $(\nifdef\\\nB\r\noverride export export X$  \\\n  :=\n-x_9 !=a \nendef#c\r\nendef\\\n\r\nendif # c\\\nifdef\\\nB\\\n&", ChangeValue (One None) (codes "Y") (edits.Set (codes "$(q:;=|)")), Accepted 1 1 (span 22 24 (codes "$(q:;=|)") ∷ []) (Becomes (codes ".RECIPEPREFIX = X\nY = $(q:;=|)\nifdef\\\nB\r\noverride export export X$  \\\n  :=\n-x_9 !=a \nendef#c\r\nendef\\\n\r\nendif # c\\\nifdef\\\nB\\\n&"))) ∷  -- mixed-303
    (codes "ifdef B\na:\nelse\n\ty\nifdef A\r\n>endif\r\n>-include2&:: $$\\\r\n: $$ $(q:;=|) $x\r\n\t\r\n>-include2&:: $$\\\r\n: $$ $(q:;=|) $x\r\n", RenameTarget (codes "a") (codes "$(s\\)"), Accepted 1 1 (span 8 9 (codes "$(s\\)") ∷ []) (Becomes (codes "ifdef B\n$(s\\):\nelse\n\ty\nifdef A\r\n>endif\r\n>-include2&:: $$\\\r\n: $$ $(q:;=|) $x\r\n\t\r\n>-include2&:: $$\\\r\n: $$ $(q:;=|) $x\r\n"))) ∷  -- mixed-304
    (codes "a: x.o\t$x\n\\\n\0:ab\\\\\n\r\n\rb\n", ChangePrereqs None (codes "a") (RemovePrereq (codes "x.o")), Accepted 1 1 (span 2 6 [] ∷ []) (Becomes (codes "a:\t$x\n\\\n\0:ab\\\\\n\r\n\rb\n"))) ∷  -- mixed-305
    (codes "Y = ${u\nifneq\r\n#\r\nendef#c\r\n", ChangeValue (One None) (codes "Y") (edits.Set (codes ";")), Accepted 1 1 (span 4 7 (codes ";") ∷ []) (Becomes (codes "Y = ;\nifneq\r\n#\r\nendef#c\r\n"))) ∷  -- mixed-306
    (codes "Y = ${u\nifneq\r\n#\r\nendef#c\r\n", ChangeValue (One None) (codes "Y") (edits.Append (codes "${c}")), NotMade 1 OpenValue) ∷  -- mixed-307
    (codes "\t\\\nelse\r\nfoo: ${c} t\nifneq\r\na: \n\t \n\t \r\nifdef \t?= \\\na: b\r", SetRecipe None (codes "a") (ByNumber 2) (codes "x"), Accepted 1 1 (span 36 37 (codes "x") ∷ []) (Becomes (codes "\t\\\nelse\r\nfoo: ${c} t\nifneq\r\na: \n\t \n\tx\r\nifdef \t?= \\\na: b\r"))) ∷  -- mixed-308
    (codes "\t\\\nelse\r\nfoo: ${c} t\nifneq\r\na: \n\t \n\t \r\nifdef \t?= \\\na: b\r", RemoveLines (OfRecipe None (codes "a") (ByNumber 2)), Accepted 0 1 (span 35 39 [] ∷ []) (Becomes (codes "\t\\\nelse\r\nfoo: ${c} t\nifneq\r\na: \n\t \nifdef \t?= \\\na: b\r"))) ∷  -- mixed-309
    (codes "ifdef B\nfoo: b\n\tx\nelse\n\ty\n%.o:::e$#f \nendif\ndefine X =\n.RECIPEPREFIX=>\n\tx\n\tendef\n>x\n", RemoveLines (OfRule None (codes "foo")), NotMade 0 Straddles) ∷  -- mixed-310
    (codes "\t \r\nY = 2\n\t# c\n", ChangeValue (One None) (codes "Y") (edits.Set (codes "$(s\\)")), Accepted 1 1 (span 8 9 (codes "$(s\\)") ∷ []) (Becomes (codes "\t \r\nY = $(s\\)\n\t# c\n"))) ∷  -- mixed-311
    (codes "ifdef B\na:\nifdef A\n\ty\nendif\na\\\n\\\n: .PHONY | \\\n  \\\n\r\n\r\n", AddRecipe None (codes "a") Last (codes "define"), NotMade 1 (Ambiguous 2)) ∷  -- mixed-312
    (codes "ifdef B\na:\nifdef A\n\ty\nendif\na\\\n\\\n: .PHONY | \\\n  \\\n\r\n\r\n", RemoveLines (OfRecipe (Some 2) (codes "a") (ByNumber 1)), NotMade 0 Absent) ∷  -- mixed-313
    (codes "Y = \\\nifdef A\\\n \\\n\tendef # c\r\nifdef A\r\ndefine \\\n>y\r\r\n\nifdef A\r\n", AddLine Bottom (NewRule (codes "b") Single []), Accepted 1 0 (span 63 63 (codes "b:\n") ∷ []) (Becomes (codes "Y = \\\nifdef A\\\n \\\n\tendef # c\r\nifdef A\r\ndefine \\\n>y\r\r\n\nifdef A\r\nb:\n"))) ∷  -- mixed-314
    (codes "ifdef A\na:\n# c\nendif\n\n\ty\n", RemoveLines (OfRule None (codes "a")), NotMade 0 Straddles) ∷  -- mixed-315
    (codes "ifdef B\nfoo: b\n\tx\nifdef A\nelse\n\tz\nendif\n#)c &\n d", AddRecipe None (codes "foo") Last [], NotMade 1 Straddles) ∷  -- mixed-316
    (codes "$(a b)\n$\n\\\n#\n\n", AddLine Bottom (NewRule (codes "x.o") Single (codes "$(p #) foo")), Accepted 1 0 (span 14 14 (codes "x.o: $(p #) foo\n") ∷ []) (Becomes (codes "$(a b)\n$\n\\\n#\n\nx.o: $(p #) foo\n"))) ∷  -- mixed-317
    (codes "else\n\t$x\\\n\\\n$$:\\\n\\\n$(a b) $$\nendef\n\t\n>a\\\\\ndefine:::= \t\\\n\\\n\n\t\\\nelse\n>define E # c\n", ChangeValue (One None) (codes "define") (edits.Set (codes ".PHONY")), Accepted 1 1 (span 58 58 (codes ".PHONY") ∷ []) (Becomes (codes "else\n\t$x\\\n\\\n$$:\\\n\\\n$(a b) $$\nendef\n\t\n>a\\\\\ndefine:::= \t\\\n\\\n.PHONY\n\t\\\nelse\n>define E # c\n"))) ∷  -- mixed-318
    (codes ".RECIPEPREFIX = f\ndefine X =\n&\n\tya foo: c\n\ty\n\n\tya foo: c\n", AddLine Bottom (NewAssign (codes "define") Immediate (codes "a\\:b")), NotMade 1 OpenDefine) ∷  -- mixed-319
    (codes "ifdef B\nfoo: b\n\tx\nelse\n\ty\n.R=ECIPEPREFX# = e\nifdef = \n  = \n", ChangeValue (One None) (codes "ifdef") (edits.Append (codes "a&b")), Accepted 1 1 (span 53 53 (codes "a&b") ∷ []) (Becomes (codes "ifdef B\nfoo: b\n\tx\nelse\n\ty\n.R=ECIPEPREFX# = e\nifdef = a&b\n  = \n"))) ∷  -- mixed-320
    (codes "define D\r\ndefine E\nendef\n", AddLine Bottom (NewAssign (codes "CC") PosixSimple (codes "$(q:;=|)")), NotMade 1 OpenDefine) ∷  -- mixed-321
    (codes "define D\r\ndefine E\nendef\n", AddLine Bottom (NewRule (codes "${c}") Double []), NotMade 1 OpenDefine) ∷  -- mixed-322
    (codes "\na: b\n\tx\n", RemoveLines (OfRecipe None (codes "a") (ByNumber 1)), Accepted 0 1 (span 6 9 [] ∷ []) (Becomes (codes "\na: b\n"))) ∷  -- mixed-323
    (codes "foo: b\n\tx\nifdef A\n\ty\nendif\n\tendif\r\n$(p #): ${g(}\tb  $$\n\t#\\\\\na\\\n\r\n!", SetRecipe None (codes "foo") (ByNumber 1) (codes ">"), Accepted 1 1 (span 8 9 (codes ">") ∷ []) (Becomes (codes "foo: b\n\t>\nifdef A\n\ty\nendif\n\tendif\r\n$(p #): ${g(}\tb  $$\n\t#\\\\\na\\\n\r\n!"))) ∷  -- mixed-324
    (codes "foo: b\n\tx\nifdef A\n\ty\nendif\n\tendif\r\n$(p #): ${g(}\tb  $$\n\t#\\\\\na\\\n\r\n!", RemoveLines (OfRule None (codes "foo")), NotMade 0 Straddles) ∷  -- mixed-325
    (codes "Y = ${u\n\nÿ$\\#b=\n\\\\\\\n$(b\t$(a \\\n b)\n=!\n!\n", AddLine Bottom (NewRule (codes "a&b") Double (codes "%.c")), Accepted 1 0 (span 39 39 (codes "a&b:: %.c\n") ∷ []) (Becomes (codes "Y = ${u\n\nÿ$\\#b=\n\\\\\\\n$(b\t$(a \\\n b)\n=!\n!\na&b:: %.c\n"))) ∷  -- mixed-326
    (codes "%.c::t |  \r\nX\\\n!=  \t\r\ndefine D\r\ndefine E\nendef\n", ChangePrereqs None (codes "%.c") (RemovePrereq (codes "t")), Accepted 1 1 (span 5 6 [] ∷ []) (Becomes (codes "%.c:: |  \r\nX\\\n!=  \t\r\ndefine D\r\ndefine E\nendef\n"))) ∷  -- mixed-327
    (codes "endif # c\r\nA +=%.o\\\n\t\\\r\n# x ; y : z = 1\r\ndefine \r\nendef x\r\nenif # c\r\nifdef ::=\r\ndefine D\r\n", RemoveLines (OfAssign (Some 1) (codes "ifdef")), Accepted 0 1 (span 69 80 [] ∷ []) (Becomes (codes "endif # c\r\nA +=%.o\\\n\t\\\r\n# x ; y : z = 1\r\ndefine \r\nendef x\r\nenif # c\r\ndefine D\r\n"))) ∷  -- mixed-328
    (codes "endif # c\r\nA +=%.o\\\n\t\\\r\n# x ; y : z = 1\r\ndefine \r\nendef x\r\nenif # c\r\nifdef ::=\r\ndefine D\r\n", AddLine Bottom (NewRule (codes "a") Single []), NotMade 1 OpenDefine) ∷  -- mixed-329
    (codes "a&b\\\r\n&: $(a b) \tx.o $(p #)#\na\r", AddLine Bottom (NewRule (codes "foo") Double []), NotMade 1 OpenLine) ∷  -- mixed-330
    []

answers_27 : map (λ row. account row.0 row.1) rows_27 ≡ map (λ row. row.2) rows_27
answers_27 = refl

abbrev rows_28 : List (List ℕ × Edit × Account)
rows_28 =
    (codes "ifndef X # c\r\n\tdefine \r\nendif\r\n>vpath %.c a\r\n", AddLine Bottom (NewAssign (codes "ifdef") Shell (codes "\\#")), NotMade 1 OpenDefine) ∷  -- mixed-331
    (codes "ifndef X # c\r\n\tdefine \r\nendif\r\n>vpath %.c a\r\n", AddLine Bottom (NewAssign (codes "t") Shell (codes "1")), NotMade 1 OpenDefine) ∷  -- mixed-332
    (codes "Y = 1\n\tZ = 1\n", ChangeValue (One None) (codes "Z") (edits.Set (codes "x.o")), Accepted 1 1 (span 11 12 (codes "x.o") ∷ []) (Becomes (codes "Y = 1\n\tZ = x.o\n"))) ∷  -- mixed-333
    (codes "ifdef A\na:\nendif\n\ty\n.RECIPEPREFIX = b\r", SetRecipe None (codes "a") (ByNumber 1) (codes "\tb"), Accepted 1 1 (span 18 19 (codes "\tb") ∷ []) (Becomes (codes "ifdef A\na:\nendif\n\t\tb\n.RECIPEPREFIX = b\r"))) ∷  -- mixed-334
    (codes ".RECIPEPREFIX = i\n.RECIPEPREFIX=a\nx.o:: \\\n\t| $(a b) $(f {) \\\n \\\n ; \t\n\t \n", RemoveLines (OfRule None (codes "x.o")), Accepted 0 1 (span 34 69 [] ∷ []) (Becomes (codes ".RECIPEPREFIX = i\n.RECIPEPREFIX=a\n\t \n"))) ∷  -- mixed-335
    (codes ".RECIPEPREFIX = .\n$$\tc:$(s\\)\ta $(s\\) \\\n \\\n | %.c  foo ;\\\r\nx  y$x a\\\n\\\n\r\n\\\n\t\n", ChangePrereqs None (codes "c") (RemovePrereq (codes "$;")), NotMade 1 Absent) ∷  -- mixed-336
    (codes ".RECIPEPREFIX = .\n$$\tc:$(s\\)\ta $(s\\) \\\n \\\n | %.c  foo ;\\\r\nx  y$x a\\\n\\\n\r\n\\\n\t\n", RemoveLines (OfRule None (codes "c")), NotMade 0 (SharedRule 2)) ∷  -- mixed-337
    (codes "\ta \\\n\tb\n\\\nendef\nifdef A\nelse\nendif # c\n\\\n\t\nexport private define X =\nexport private define X =\n", AddLine Bottom (NewAssign (codes "endef") Recursive (codes "c")), NotMade 1 OpenDefine) ∷  -- mixed-338
    (codes ".RECIPEPREFIX = d\r\n.RECIPEPREFIX =\\\na\n\0: &\r\ndefine D\r\ndefine E\nendef\n", AddLine Bottom (NewRule (codes "$(f {)") Single (codes "$(s\\)")), NotMade 1 OpenDefine) ∷  -- mixed-339
    (codes ".RECIPEPREFIX = c\n%.o\tfoo : $(q:;=|) -include2\tt \na: $(f {) $(q:;=|)\n.Z = 1\naendef\n\telse\nX += $(a b)$(w \\\n # c\nY ::=\\\r\n # x ; y : z = 1\n", RemoveLines (OfRule None (codes "a")), Accepted 0 1 (span 50 69 [] ∷ []) (Becomes (codes ".RECIPEPREFIX = c\n%.o\tfoo : $(q:;=|) -include2\tt \n.Z = 1\naendef\n\telse\nX += $(a b)$(w \\\n # c\nY ::=\\\r\n # x ; y : z = 1\n"))) ∷  -- mixed-340
    (codes "ifneq\ndefin{e F \\\n\noverride define \n", AddLine Bottom (NewRule (codes "$(p #) foo") Double []), NotMade 1 OpenDefine) ∷  -- mixed-341
    (codes ".RECIPEPREFIX = Y\nX = a\\", ChangeValue (One None) (codes "X") (edits.Set []), Accepted 1 1 (span 22 24 [] ∷ []) (Becomes (codes ".RECIPEPREFIX = Y\nX = "))) ∷  -- mixed-342
    (codes ".RECIPEPREFIX = Y\nX = a\\", ChangeValue (One None) (codes "X") (edits.Append (codes "$x")), NotMade 1 OpenValue) ∷  -- mixed-343
    (codes ".RECIPEPREFIX = Y\nfoo: b\n\tx\nifdef A\n\ty\n# c\r\nendef # c\r\nfoo: b\n", ChangePrereqs (Some 1) (codes "foo") (AddPrereq false (codes ".PHONY")), Accepted 1 1 (span 24 24 (codes " .PHONY") ∷ []) (Becomes (codes ".RECIPEPREFIX = Y\nfoo: b .PHONY\n\tx\nifdef A\n\ty\n# c\r\nendef # c\r\nfoo: b\n"))) ∷  -- mixed-344
    (codes ".RECIPEPREFIX = Y\nfoo: b\n\tx\nifdef A\n\ty\n# c\r\nendef # c\r\nfoo: b\n", ChangePrereqs (Some 1) (codes "foo") (AddPrereq true (codes "a")), Accepted 1 1 (span 24 24 (codes " | a") ∷ []) (Becomes (codes ".RECIPEPREFIX = Y\nfoo: b | a\n\tx\nifdef A\n\ty\n# c\r\nendef # c\r\nfoo: b\n"))) ∷  -- mixed-345
    (codes "Y = ${u\n$(a b) $(f {) :\\\n\t\n.$(\nendif # c", ChangeValue (One None) (codes "Y") (edits.Set (codes "|")), Accepted 1 1 (span 4 7 (codes "|") ∷ []) (Becomes (codes "Y = |\n$(a b) $(f {) :\\\n\t\n.$(\nendif # c"))) ∷  -- mixed-346
    (codes ".RECIPEPREFIX = -\n>t: uaelse\na: \\\n\\\n\tb\n\ta\\\\\n>endif", SetRecipe None (codes ">t") (ByNumber 0) (codes "define"), NotMade 1 Absent) ∷  -- mixed-347
    (codes "etu\nfoo\t:-include2 \t$x ;\r\n\\\n \\\n #", ChangePrereqs None (codes "foo") (AddPrereq true (codes "a")), Accepted 1 1 (span 22 22 (codes " | a") ∷ []) (Becomes (codes "etu\nfoo\t:-include2 \t$x | a ;\r\n\\\n \\\n #"))) ∷  -- mixed-348
    (codes "ifdef A\na:\n# c\nendif\n\ty\noverride define D\noverride undefine X\nfoo: ${g(} \\\n  $(f {)\n\t\n ifneq\n# c\n", RemoveLines (OfRecipe None (codes "a") (ByNumber 1)), Accepted 0 1 (span 21 24 [] ∷ []) (Becomes (codes "ifdef A\na:\n# c\nendif\noverride define D\noverride undefine X\nfoo: ${g(} \\\n  $(f {)\n\t\n ifneq\n# c\n"))) ∷  -- mixed-349
    (codes "ifdef A\na:\n# c\nendif\n\ty\noverride define D\noverride undefine X\nfoo: ${g(} \\\n  $(f {)\n\t\n ifneq\n# c\n", RemoveLines (OfRule None (codes "a")), NotMade 0 Straddles) ∷  -- mixed-350
    (codes "foo: b\n\tx\nifdef A\n\ty\nendif\na: $(p #)\n \\\n\n", AddRecipe None (codes "a") Last (codes "define"), Accepted 1 0 (span 37 37 (codes "\tdefine\n") ∷ []) (Becomes (codes "foo: b\n\tx\nifdef A\n\ty\nendif\na: $(p #)\n\tdefine\n \\\n\n"))) ∷  -- mixed-351
    (codes "foo: b\n\tx\nifdef A\n\ty\nendif\na: $(p #)\n \\\n\n", SetRecipe None (codes "foo") (ByNumber 2) [], Accepted 1 1 (span 19 20 [] ∷ []) (Becomes (codes "foo: b\n\tx\nifdef A\n\t\nendif\na: $(p #)\n \\\n\n"))) ∷  -- mixed-352
    (codes "else ifdef Q\r\n\t# \r\r\na: b\n\tx\n", ChangePrereqs None (codes "a") (AddPrereq true (codes "b")), Accepted 1 1 (span 24 24 (codes " | b") ∷ []) (Becomes (codes "else ifdef Q\r\n\t# \r\r\na: b | b\n\tx\n"))) ∷  -- mixed-353
    (codes "Y = $(m \\\n n\n$x :\\\n\\\n%.o |  \\\n\n#\0", RemoveLines (OfRule None (codes "$x")), Accepted 0 1 (span 13 31 [] ∷ []) (Becomes (codes "Y = $(m \\\n n\n#\0"))) ∷  -- mixed-354
    (codes "else\n$$ $(s\\) \t:::  \r\na.b ?= b ; \r\n\t\\\nendef\r\n\t\\\ndefine Q\\\nA !=\\\n\t| \r\n", ChangeValue (One None) (codes "a.b") (edits.Set (codes "a&b")), Accepted 1 1 (span 29 32 (codes "a&b") ∷ []) (Becomes (codes "else\n$$ $(s\\) \t:::  \r\na.b ?= a&b \r\n\t\\\nendef\r\n\t\\\ndefine Q\\\nA !=\\\n\t| \r\n"))) ∷  -- mixed-355
    (codes ".RECIPEPREFIX = b\nifdef A\nendef \\\n \\\n :::= $( \\\\c \n\t\\\n\nfoo: \nifdef\\\nB\n%.o : : foo .PHONY $$ \t\na: \na: b\n\tx\n", ChangePrereqs (Some 1) (codes "a") (AddPrereq true (codes "%.c")), Accepted 1 1 (span 96 96 (codes " | %.c") ∷ []) (Becomes (codes ".RECIPEPREFIX = b\nifdef A\nendef \\\n \\\n :::= $( \\\\c \n\t\\\n\nfoo: \nifdef\\\nB\n%.o : : foo .PHONY $$ \t\na: | %.c \na: b\n\tx\n"))) ∷  -- mixed-356
    (codes ".a \\\n\tb\\\nelse ifdef Q\ndefine D\n", AddLine Bottom (NewRule (codes "$$") Double (codes "$(p #) %.c")), NotMade 1 OpenDefine) ∷  -- mixed-357
    (codes "a:\nifdef A\n\ty\nendif\n.RECIPEPREFIX ::=:\n", RemoveLines (OfRecipe None (codes "a") (ByNumber 1)), Accepted 0 1 (span 11 14 [] ∷ []) (Becomes (codes "a:\nifdef A\nendif\n.RECIPEPREFIX ::=:\n"))) ∷  -- mixed-358
    (codes "a:\nifdef A\n\ty\nendif\n.RECIPEPREFIX ::=:\n", ChangePrereqs None (codes "a") (AddPrereq false (codes "t")), Accepted 1 1 (span 2 2 (codes " t") ∷ []) (Becomes (codes "a: t\nifdef A\n\ty\nendif\n.RECIPEPREFIX ::=:\n"))) ∷  -- mixed-359
    (codes "a foo: c\n\ty\n", RenameTarget (codes "a") (codes "$x"), Accepted 1 1 (span 0 1 (codes "$x") ∷ []) (Becomes (codes "$x foo: c\n\ty\n"))) ∷  -- mixed-360
    (codes "t1 += ; -include2 .PHONY\n$x $(a b)::  X := \n\techo a # b\n\nt1 += ; -include2 .PHONY\n", RemoveLines (OfAssign (Some 2) (codes "t1")), Accepted 0 1 (span 57 82 [] ∷ []) (Becomes (codes "t1 += ; -include2 .PHONY\n$x $(a b)::  X := \n\techo a # b\n\n"))) ∷  -- mixed-361
    (codes "t1 += ; -include2 .PHONY\n$x $(a b)::  X := \n\techo a # b\n\nt1 += ; -include2 .PHONY\n", ChangeValue (One None) (codes "t1") (edits.Append (codes "2 3")), NotMade 1 (Ambiguous 2)) ∷  -- mixed-362
    (codes "foo: b\n\ta\\\\\n\t\nifeq (a,$(b\nexport private define \nfoo: t\n\t\n\t\n>\na: b\r", RemoveLines (OfRecipe None (codes "foo") (ByNumber 1)), Accepted 0 1 (span 7 12 [] ∷ []) (Becomes (codes "foo: b\n\t\nifeq (a,$(b\nexport private define \nfoo: t\n\t\n\t\n>\na: b\r"))) ∷  -- mixed-363
    (codes "unexport Y\n#c \\\n d\n\\\n# ;\n\t\r\n>b\n \\\n\nA=\r \nA = \\\n \\\n $\\\\\n.c c #\\\\\n", RemoveLines (OfAssign None (codes "A")), Accepted 0 1 (span 40 54 [] ∷ []) (Becomes (codes "unexport Y\n#c \\\n d\n\\\n# ;\n\t\r\n>b\n \\\n\nA=\r \n.c c #\\\\\n"))) ∷  -- mixed-364
    (codes "define!= \nx.o y: $(a b) $(f {)\n.x\n\t\\\nendif # c.x\n", RemoveLines (OfRule (Some 1) (codes "y")), NotMade 0 (SharedRule 2)) ∷  -- mixed-365
    (codes ".RECIPEPREFIX = .\nY = ${u\nprivate \tdefine += \r\n \\\n\tY ::= $\\\r\n \r\ndefine D\r\nendif\r\n.RECIPEPREFIX :::=e\r\n$(a b) $(q:;=|):: \t$$  $(a b)\r\nex\r\n", RemoveLines (OfAssign None (codes "define")), Accepted 0 1 (span 26 47 [] ∷ []) (Becomes (codes ".RECIPEPREFIX = .\nY = ${u\n \\\n\tY ::= $\\\r\n \r\ndefine D\r\nendif\r\n.RECIPEPREFIX :::=e\r\n$(a b) $(q:;=|):: \t$$  $(a b)\r\nex\r\n"))) ∷  -- mixed-366
    (codes ".RECIPEPREFIX = f\nY = ${u\n \\\n\n\\\\\n\n!\\\n\\\\\nendef\\\\\\\n\\\n&\n", ChangeValue (One (Some 1)) (codes "Y") (edits.Append (codes "\\$x $x")), NotMade 1 OpenValue) ∷  -- mixed-367
    (codes "ifdef !=\\\n\\# b \r\n a.b:::=  \r\n", ChangeValue (One None) (codes "a.b") (edits.Set (codes "${c} $(a b)")), Accepted 1 1 (span 27 27 (codes "${c} $(a b)") ∷ []) (Becomes (codes "ifdef !=\\\n\\# b \r\n a.b:::=  ${c} $(a b)\r\n"))) ∷  -- mixed-368
    (codes "ifdef !=\\\n\\# b \r\n a.b:::=  \r\n", ChangeValue (One None) (codes "a.b") (edits.Set []), Accepted 1 1 (span 27 27 [] ∷ []) (Becomes (codes "ifdef !=\\\n\\# b \r\n a.b:::=  \r\n"))) ∷  -- mixed-369
    (codes "ifdef B\nfoo: b\n\tx\nelse\n\ty\n\t\\\n+\\\r\n=  \r\nendif\r\n", RenameTarget (codes "foo") (codes "$(p #)"), Accepted 1 1 (span 8 11 (codes "$(p #)") ∷ []) (Becomes (codes "ifdef B\n$(p #): b\n\tx\nelse\n\ty\n\t\\\n+\\\r\n=  \r\nendif\r\n"))) ∷  -- mixed-370
    (codes "Y = x\\\\\\\n>a\\\r\n>b\r\n${g(}\\\r\n: %.c \tb $x ; \\\r\n# c\r\nY = x\\\\\\\n>a\\\r\n>b\r\n", ChangePrereqs None (codes "${g(}") (AddPrereq true (codes "$x")), Accepted 1 1 (span 37 37 (codes " | $x") ∷ []) (Becomes (codes "Y = x\\\\\\\n>a\\\r\n>b\r\n${g(}\\\r\n: %.c \tb $x | $x ; \\\r\n# c\r\nY = x\\\\\\\n>a\\\r\n>b\r\n"))) ∷  -- mixed-371
    (codes "\r\n|\\${&\\\n #\t\n$(q:;=|): foo \t$(s\\) \t$x # x ; y : z = 1\n\n$(q:;=|): foo \t$(s\\) \t$x # x ; y : z = 1\n", ChangePrereqs (Some 1) (codes "$(q:;=|)") (RemovePrereq (codes "foo")), Accepted 1 1 (span 22 26 [] ∷ []) (Becomes (codes "\r\n|\\${&\\\n #\t\n$(q:;=|): \t$(s\\) \t$x # x ; y : z = 1\n\n$(q:;=|): foo \t$(s\\) \t$x # x ; y : z = 1\n"))) ∷  -- mixed-372
    (codes " :Y += \t\r\n\\# \tx.o : $(s\\) \n\\\n>q = c  $(s\\) \r\n\t\r\naZ = 1\r\n>else\nifndef X # c\n(?\r\n\r{ =;=\r\n\t\r\n", RemoveLines (OfAssign None (codes "aZ")), Accepted 0 1 (span 48 56 [] ∷ []) (Becomes (codes " :Y += \t\r\n\\# \tx.o : $(s\\) \n\\\n>q = c  $(s\\) \r\n\t\r\n>else\nifndef X # c\n(?\r\n\r{ =;=\r\n\t\r\n"))) ∷  -- mixed-373
    (codes ".RECIPEPREFIX = x\n\tdefine Q\r\n$(p #) \\\n  .PHONY::: $(q:;=|)  foo ; \r\nendif\r\nX+= \\\r\n 2 3$$ $(p #)\\\n\t\\\r\n\r\n", AddLine Bottom (NewRule (codes "${c}") Single []), NotMade 1 OpenDefine) ∷  -- mixed-374
    (codes "endif # c\n>define \r\n\techo a # b\r\nfoo: $(q:;=|) ${c}\n\tZ = 1\n>a\\\r\nx.o y: b\r\na: b\n\tx\n", RemoveLines (OfRule None (codes "y")), NotMade 0 (SharedRule 3)) ∷  -- mixed-375
    (codes ".RECIPEPREFIX = x\n $(s\\) : c  foo# x ; y : z = 1\n>\n\ta\\\r\n>b\nx.o y: %.o\nty\r\n%.c: >q += \\\n   b: b b | c b\n", ChangePrereqs None (codes "$(s\\)") (RemovePrereq (codes "c")), Accepted 1 1 (span 26 28 [] ∷ []) (Becomes (codes ".RECIPEPREFIX = x\n $(s\\) :  foo# x ; y : z = 1\n>\n\ta\\\r\n>b\nx.o y: %.o\nty\r\n%.c: >q += \\\n   b: b b | c b\n"))) ∷  -- mixed-376
    (codes "=}\n-include2 -include2: \\\n \\\n %.o  t # x ; y : z = 1\n\\\nX?= \n\t\n# \\\nendif\n", RemoveLines (OfAssign None (codes "X")), NotMade 0 Leans) ∷  -- mixed-377
    (codes "=}\n-include2 -include2: \\\n \\\n %.o  t # x ; y : z = 1\n\\\nX?= \n\t\n# \\\nendif\n", RemoveLines (OfRule None (codes "-include2")), NotMade 0 (SharedRule 2)) ∷  -- mixed-378
    (codes "ifdef A\na:\nendif\n\n\ty\nendif\r\n\\", ChangePrereqs None (codes "a") (AddPrereq true (codes "-include2")), Accepted 1 1 (span 10 10 (codes " | -include2") ∷ []) (Becomes (codes "ifdef A\na: | -include2\nendif\n\n\ty\nendif\r\n\\"))) ∷  -- mixed-379
    (codes "\ta\\{\nex=ort private define E # c\n", RemoveLines (OfAssign None (codes "ex")), Accepted 0 1 (span 5 33 [] ∷ []) (Becomes (codes "\ta\\{\n"))) ∷  -- mixed-380
    []

answers_28 : map (λ row. account row.0 row.1) rows_28 ≡ map (λ row. row.2) rows_28
answers_28 = refl

abbrev rows_29 : List (List ℕ × Edit × Account)
rows_29 =
    (codes " &: a.b\\\r\n{:=| $x : $(q:;=|): f oo ${g(} a&b \t\nx.o y: xo a&b\n>Z = 1\n &: a.b\\\r\n{:=| $x : $(q:;=|): f oo ${g(} a&b \t\n", AddRecipe None (codes "x.o") Last (codes "q:=1"), Accepted 1 0 (span 61 61 (codes "\tq:=1\r\n") ∷ []) (Becomes (codes " &: a.b\\\r\n{:=| $x : $(q:;=|): f oo ${g(} a&b \t\nx.o y: xo a&b\n\tq:=1\r\n>Z = 1\n &: a.b\\\r\n{:=| $x : $(q:;=|): f oo ${g(} a&b \t\n"))) ∷  -- mixed-381
    (codes "Y = ${u\n.RECIPEPREFIX = :\r\n\tt: u\r\n+ :::= #\0\r\n-x_9 !=\\\n\\\n \r\n", AddRecipe None (codes "t") Last (codes "e f \\ g"), Accepted 1 0 (span 34 34 (codes ":e f \\ g\n") ∷ []) (Becomes (codes "Y = ${u\n.RECIPEPREFIX = :\r\n\tt: u\r\n:e f \\ g\n+ :::= #\0\r\n-x_9 !=\\\n\\\n \r\n"))) ∷  -- mixed-382
    (codes "$(q:;=|)\\\n\t\\\r\n.PHONY:  $(p #) a  -include2 | x.o foo\\\n\t\\\r\n\nifdef\\\nB\r\ndefine D\nendef\n\t\\\n\t$(\\\nY = 2\n\t# c\n", AddRecipe None (codes ".PHONY") Last (codes " a"), Accepted 1 0 (span 59 59 (codes "\t a\n") ∷ []) (Becomes (codes "$(q:;=|)\\\n\t\\\r\n.PHONY:  $(p #) a  -include2 | x.o foo\\\n\t\\\r\n\n\t a\nifdef\\\nB\r\ndefine D\nendef\n\t\\\n\t$(\\\nY = 2\n\t# c\n"))) ∷  -- mixed-383
    (codes "a:\nifdef A\nelse\n\tz\nendif\n\t# x ; y : z = 1\nifeq (a,$(b\n>xelse\n", RenameTarget (codes "a") (codes "$(s\\)"), Accepted 1 1 (span 0 1 (codes "$(s\\)") ∷ []) (Becomes (codes "$(s\\):\nifdef A\nelse\n\tz\nendif\n\t# x ; y : z = 1\nifeq (a,$(b\n>xelse\n"))) ∷  -- mixed-384
    (codes "\t \n\t \nb: b b | c b\n", RenameTarget (codes "b") (codes "b"), NotMade 1 Taken) ∷  -- mixed-385
    (codes "\t \n\t \nb: b b | c b\n", SetRecipe None (codes "b") (ByNumber 4294967295) (codes "\tb"), NotMade 1 Absent) ∷  -- mixed-386
    (codes "ifdef A\na: b\n\tx\nendif\n\n\ty\noverride deie X =\r\ndefine X =\\\n\t \nendef\\\n", RenameTarget (codes "a") (codes "b"), Accepted 1 1 (span 8 9 (codes "b") ∷ []) (Becomes (codes "ifdef A\nb: b\n\tx\nendif\n\n\ty\noverride deie X =\r\ndefine X =\\\n\t \nendef\\\n"))) ∷  -- mixed-387
    (codes "x.o y: \n$\\\n\t\nZ = 1\ndefine D\r\ndefine E\nendef\n", RenameTarget (codes "y") (codes "${g(}"), Accepted 1 1 (span 4 5 (codes "${g(}") ∷ []) (Becomes (codes "x.o ${g(}: \n$\\\n\t\nZ = 1\ndefine D\r\ndefine E\nendef\n"))) ∷  -- mixed-388
    (codes "\t$(\n+\r\na.b!= $x \r\nY = 2\n\t# c\n", RemoveLines (OfAssign (Some 1) (codes "Y")), Accepted 0 1 (span 18 24 [] ∷ []) (Becomes (codes "\t$(\n+\r\na.b!= $x \r\n\t# c\n"))) ∷  -- mixed-389
    (codes "%.c\\\na&b: |  a $x\\\n\\\n# \\\r\noverride  :=c\t.PHONY $$", ChangePrereqs None (codes "a&b") (RemovePrereq (codes "$x")), Accepted 1 1 (span 14 17 [] ∷ []) (Becomes (codes "%.c\\\na&b: |  a\\\n\\\n# \\\r\noverride  :=c\t.PHONY $$"))) ∷  -- mixed-390
    (codes "Y = ${u\n\t\\\n%.o: ${c} x.o \r\n : a.b := \\$x \n$$&: ${c} b #", RemoveLines (OfRule None (codes "$$")), Accepted 0 1 (span 42 55 [] ∷ []) (Becomes (codes "Y = ${u\n\t\\\n%.o: ${c} x.o \r\n : a.b := \\$x \n"))) ∷  -- mixed-391
    (codes "Y = a $\n.&ECIPEPREFIX = X\r\nendef", ChangeValue (One None) (codes "Y") (edits.Append (codes "$$")), NotMade 1 OpenValue) ∷  -- mixed-392
    (codes ".RECIPEPREFIX = %\n#\0\nendif # c\n\\\nifdef := \t$(w \\\n \\#$(a b)\\\n\t\n>a \\\n\tb\ndefine D\n", RemoveLines (OfAssign None (codes "ifdef")), Accepted 0 1 (span 31 62 [] ∷ []) (Becomes (codes ".RECIPEPREFIX = %\n#\0\nendif # c\n>a \\\n\tb\ndefine D\n"))) ∷  -- mixed-393
    (codes "a:\nifdef A\n\ty\nendif\nifdef\\\nB\\\nendef\nload x\nelse ifdef Q\\\nendif\nendef\\\n", RenameTarget (codes "a") (codes "$(f {)"), Accepted 1 1 (span 0 1 (codes "$(f {)") ∷ []) (Becomes (codes "$(f {):\nifdef A\n\ty\nendif\nifdef\\\nB\\\nendef\nload x\nelse ifdef Q\\\nendif\nendef\\\n"))) ∷  -- mixed-394
    (codes "ifdef A\na: b\n\tx\nendif\n\n\ty\n>q +=#\\\\\\\n\r\n>#c\r\na :::$(q:;=|)\t$(q:;=|) \\\n  b |%.o \r\nfoo: A\\\r\n= ${u \\$x\\\n\t\\\r\n\r\n-x_9 !=$(q:;=|) #\0\r\n", RenameTarget (codes "foo") (codes "b"), Accepted 1 1 (span 79 82 (codes "b") ∷ []) (Becomes (codes "ifdef A\na: b\n\tx\nendif\n\n\ty\n>q +=#\\\\\\\n\r\n>#c\r\na :::$(q:;=|)\t$(q:;=|) \\\n  b |%.o \r\nb: A\\\r\n= ${u \\$x\\\n\t\\\r\n\r\n-x_9 !=$(q:;=|) #\0\r\n"))) ∷  -- mixed-395
    (codes "define X =\r\n\tZ = 1\n endef := \r\n\t#\\\\\\\n\r\n${c} : $(a b)\\\n.RECIPEPREFIX ::=\\\n$x\n\t%.c\t%.c \r\n \\\n\r\nfoo: .PHONY \tb\n\n# \\\r\nifdef A\n", ChangePrereqs None (codes "foo") (RemovePrereq (codes "b")), Accepted 1 1 (span 103 106 [] ∷ []) (Becomes (codes "define X =\r\n\tZ = 1\n endef := \r\n\t#\\\\\\\n\r\n${c} : $(a b)\\\n.RECIPEPREFIX ::=\\\n$x\n\t%.c\t%.c \r\n \\\n\r\nfoo: .PHONY\n\n# \\\r\nifdef A\n"))) ∷  -- mixed-396
    (codes ".RECIPEPREFIX = X\n=Y = 1\n\tZ = 1\n", ChangeValue (One None) (codes "Z") (edits.Append (codes "x.o")), Accepted 1 1 (span 31 31 (codes " x.o") ∷ []) (Becomes (codes ".RECIPEPREFIX = X\n=Y = 1\n\tZ = 1 x.o\n"))) ∷  -- mixed-397
    (codes "t1 = #c \\\n d\r\ntifdef Z\r\n$(X)+=1 \0#\n\tx\n\tx\n", ChangeValue (One None) (codes "t1") (edits.Append (codes "$(p #) a\\:b")), Accepted 1 1 (span 5 5 (codes "$(p #) a\\:b") ∷ []) (Becomes (codes "t1 = $(p #) a\\:b#c \\\n d\r\ntifdef Z\r\n$(X)+=1 \0#\n\tx\n\tx\n"))) ∷  -- mixed-398
    (codes " \\\n\toverride ?= $(w \\\n\na: b\r", ChangeValue (One None) (codes "override") (edits.Append (codes "a&b")), NotMade 1 OpenValue) ∷  -- mixed-399
    (codes "# x ; : z = 1\n\tdefine Q\n# x ; : z = 1\n", AddLine Bottom (NewRule (codes "$(p #)") Double (codes "x.o")), NotMade 1 OpenDefine) ∷  -- mixed-400
    (codes "\t# x ; y : z = 1\n\tdefine Q\nCC+=foo \ndefine X =\nx.o y: .PHONY\n\t\n-x_9\t!=\\\n\t:\\\na foo: c\n\ty\n", AddLine Bottom (NewRule (codes "$(a b)") Single (codes ".PHONY a")), NotMade 1 OpenDefine) ∷  -- mixed-401
    (codes "ifdef A\na:\n# c\nendif\n\ty\n\t\\\n\r\n\tvpath %.c a\\\n\n# c\n", AddRecipe None (codes "a") Last (codes "x"), NotMade 1 Straddles) ∷  -- mixed-402
    (codes "a: b\n\tx\n", ChangePrereqs None (codes "a") (RemovePrereq (codes "b")), Accepted 1 1 (span 2 4 [] ∷ []) (Becomes (codes "a:\n\tx\n"))) ∷  -- mixed-403
    (codes ".RECIPEPREFIX = t\nY = x\\\\\\\nendef\nelse ifdef Q\nendef\n${c}:$(q:;=|) #c \\\n d\nt1:::=\\\n$(p #) \\$x # \\\n", RenameTarget (codes "${c}") (codes "$(q:;=|)"), Accepted 1 1 (span 52 56 (codes "$(q:;=|)") ∷ []) (Becomes (codes ".RECIPEPREFIX = t\nY = x\\\\\\\nendef\nelse ifdef Q\nendef\n$(q:;=|):$(q:;=|) #c \\\n d\nt1:::=\\\n$(p #) \\$x # \\\n"))) ∷  -- mixed-404
    (codes ".RECIPEPREFIX = t\nY = ${u\n.RECIPEPREFIX = c\n%.c ${g(}:; # c\n>a\\\n:\\\\\n\\\n(\n", RenameTarget (codes "${g(}") (codes "$(s\\)"), Accepted 1 1 (span 48 53 (codes "$(s\\)") ∷ []) (Becomes (codes ".RECIPEPREFIX = t\nY = ${u\n.RECIPEPREFIX = c\n%.c $(s\\):; # c\n>a\\\n:\\\\\n\\\n(\n"))) ∷  -- mixed-405
    (codes "$(p #)::${g(}: $x\\\n\\\n$(s\\) \t$(f {) \\\n \\\n \n\tendif\n$(f {) &: a&b b ", ChangePrereqs None (codes "$(f {)") (AddPrereq false (codes "-include2")), Accepted 1 1 (span 64 64 (codes " -include2") ∷ []) (Becomes (codes "$(p #)::${g(}: $x\\\n\\\n$(s\\) \t$(f {) \\\n \\\n \n\tendif\n$(f {) &: a&b b -include2 "))) ∷  -- mixed-406
    (codes "A  :=  \n\tZ = 1\n", ChangeValue (One None) (codes "Z") (edits.Append (codes "a&b $(a b)")), Accepted 1 1 (span 14 14 (codes " a&b $(a b)") ∷ []) (Becomes (codes "A  :=  \n\tZ = 1 a&b $(a b)\n"))) ∷  -- mixed-407
    (codes ".RECIPEPREFIX = Y\n\nb: b b | c b\n", RenameTarget (codes "b") (codes "$(p #)"), Accepted 1 1 (span 19 20 (codes "$(p #)") ∷ span 22 23 (codes "$(p #)") ∷ span 24 25 (codes "$(p #)") ∷ span 30 31 (codes "$(p #)") ∷ []) (Becomes (codes ".RECIPEPREFIX = Y\n\n$(p #): $(p #) $(p #) | c $(p #)\n"))) ∷  -- mixed-408
    (codes "ifdef B\nfoo: b\n\tx\nifdef A\n\ty\nexport\tprivate override :::= -include2\t2 3.PH:NY# c\n%.c&: $(a b): %.c x.o | $(a b)\n", RemoveLines (OfRecipe None (codes "foo") (ByNumber 2)), Accepted 0 1 (span 26 29 [] ∷ []) (Becomes (codes "ifdef B\nfoo: b\n\tx\nifdef A\nexport\tprivate override :::= -include2\t2 3.PH:NY# c\n%.c&: $(a b): %.c x.o | $(a b)\n"))) ∷  -- mixed-409
    (codes "e\\\n\n>$(a b): $(a b)  foo \\\r\n \n\techo a # b\n\tifdef Z\nfoo: c\n# c\n\t \n\techo a # b\n", RemoveLines (OfRule None (codes "foo")), Accepted 0 4 (span 51 77 [] ∷ []) (Becomes (codes "e\\\n\n>$(a b): $(a b)  foo \\\r\n \n\techo a # b\n\tifdef Z\n"))) ∷  -- mixed-410
    (codes "x.o y: ${c}\nexport private define F \\\n\n\\#x ::= \\$x x.o -include2 # c\nexport private define F \\\n\n", ChangePrereqs None (codes "x.o") (RemovePrereq (codes "${c}")), Accepted 1 1 (span 6 11 [] ∷ []) (Becomes (codes "x.o y:\nexport private define F \\\n\n\\#x ::= \\$x x.o -include2 # c\nexport private define F \\\n\n"))) ∷  -- mixed-411
    (codes "export define::= $ \nifdef A\n\\#x = a\\  \\#${u\n", ChangeValue (One None) (codes "define") (edits.Set (codes "=")), Accepted 1 1 (span 17 19 (codes "=") ∷ []) (Becomes (codes "export define::= =\nifdef A\n\\#x = a\\  \\#${u\n"))) ∷  -- mixed-412
    (codes "x.o:x.o ", RemoveLines (OfRule None (codes "x.o")), Accepted 0 1 (span 0 8 [] ∷ []) (Becomes [])) ∷  -- mixed-413
    (codes "ifdef B\nfoo: b\n\tx\nifdef A\nelse\n\tz\nendif\nfoo : ${c} $x b\n \\\n\tendef#c\na: $$\ntifdef Z\n>endef\n\tZ = 1", AddRecipe (Some 1) (codes "foo") Last (codes "cÿ"), NotMade 1 Straddles) ∷  -- mixed-414
    (codes ".RECIPEPREFIX = -\nX$  ?= $(a b)\t\n \\\n\nunexport Y\n\\ndefine X\n$(a b) \t$(pX) : $(a b): $(p #)\ndefine D\r\ndefine E\nendef\n", AddRecipe None (codes "$(pX)") Last (codes "x"), Accepted 1 0 (span 90 90 (codes "-x\n") ∷ []) (Becomes (codes ".RECIPEPREFIX = -\nX$  ?= $(a b)\t\n \\\n\nunexport Y\n\\ndefine X\n$(a b) \t$(pX) : $(a b): $(p #)\n-x\ndefine D\r\ndefine E\nendef\n"))) ∷  -- mixed-415
    (codes ".RECIPEPREFIX = a\n\t \n\tendef+= ${g(}\\\n\t\n\tendef+= ${g(}\\\n\t\n", RemoveLines (OfAssign None (codes "endef")), NotMade 0 (Ambiguous 2)) ∷  -- mixed-416
    (codes ".RECIPEPREFIX = a\n\t \n\tendef+= ${g(}\\\n\t\n\tendef+= ${g(}\\\n\t\n", ChangeValue (One None) (codes "endef") (edits.Set []), NotMade 1 (Ambiguous 2)) ∷  -- mixed-417
    (codes "\tx\r\n\\\n.PHONY: | \\\n   \\\n  #c \\\n d\r\na\r\n.RECIPEPREFIX=\\\n:\r\ndefine \r\nendef # c\r\ntZ = 1\r\n", ChangeValue (One None) (codes "tZ") (edits.Append (codes "c $$")), Accepted 1 1 (span 82 82 (codes " c $$") ∷ []) (Becomes (codes "\tx\r\n\\\n.PHONY: | \\\n   \\\n  #c \\\n d\r\na\r\n.RECIPEPREFIX=\\\n:\r\ndefine \r\nendef # c\r\ntZ = 1 c $$\r\n"))) ∷  -- mixed-418
    (codes "\tx\r\n\\\n.PHONY: | \\\n   \\\n  #c \\\n d\r\na\r\n.RECIPEPREFIX=\\\n:\r\ndefine \r\nendef # c\r\ntZ = 1\r\n", ChangePrereqs (Some 1) (codes ".PHONY") (AddPrereq true (codes "foo")), Accepted 1 1 (span 15 15 (codes " foo") ∷ []) (Becomes (codes "\tx\r\n\\\n.PHONY: | foo \\\n   \\\n  #c \\\n d\r\na\r\n.RECIPEPREFIX=\\\n:\r\ndefine \r\nendef # c\r\ntZ = 1\r\n"))) ∷  -- mixed-419
    (codes "$\\\n #\t\\\n\\\\\n \nfoo:::  |  ; $(a b) #\n-x_9?= \\\\ $# -include2\n", ChangeValue (One None) (codes "-x_9") (edits.Set (codes ";")), Accepted 1 1 (span 42 57 (codes ";") ∷ []) (Becomes (codes "$\\\n #\t\\\n\\\\\n \nfoo:::  |  ; $(a b) #\n-x_9?= ;\n"))) ∷  -- mixed-420
    (codes "$\\\n #\t\\\n\\\\\n \nfoo:::  |  ; $(a b) #\n-x_9?= \\\\ $# -include2\n", RemoveLines (OfAssign None (codes "-x_9")), Accepted 0 1 (span 35 58 [] ∷ []) (Becomes (codes "$\\\n #\t\\\n\\\\\n \nfoo:::  |  ; $(a b) #\n"))) ∷  -- mixed-421
    (codes "Y = $(m \\\n n\nendef\r\ndefine E # c\r\n%.o:c $x t# \\\r\n", ChangeValue (One None) (codes "Y") (edits.Set (codes "a&b foo")), Accepted 1 1 (span 4 12 (codes "a&b foo") ∷ []) (Becomes (codes "Y = a&b foo\nendef\r\ndefine E # c\r\n%.o:c $x t# \\\r\n"))) ∷  -- mixed-422
    (codes "X:= 2 3 \r\noverride define \r\na&b:$x.o ${c} ", ChangeValue (One None) (codes "X") (edits.Set (codes "a")), Accepted 1 1 (span 4 7 (codes "a") ∷ []) (Becomes (codes "X:= a \r\noverride define \r\na&b:$x.o ${c} "))) ∷  -- mixed-423
    (codes "X:= 2 3 \r\noverride define \r\na&b:$x.o ${c} ", ChangeValue (One None) (codes "X") (edits.Append (codes "c foo")), Accepted 1 1 (span 7 7 (codes " c foo") ∷ []) (Becomes (codes "X:= 2 3 c foo \r\noverride define \r\na&b:$x.o ${c} "))) ∷  -- mixed-424
    (codes ".RECIPEPREFIX = .\nifdef B\na:\nifdef A\n\ty\nendif\nendif\r\nelse ifdef Q\r\nendif\r\nendef\r\n\t \r\n\tx\r\n", SetRecipe None (codes "a") (ByNumber 2) (codes ">"), NotMade 1 Absent) ∷  -- mixed-425
    (codes ".RECIPEPREFIX = .\nifdef B\na:\nifdef A\n\ty\nendif\nendif\r\nelse ifdef Q\r\nendif\r\nendef\r\n\t \r\n\tx\r\n", ChangePrereqs (Some 1) (codes "a") (AddPrereq false (codes "%.c")), Accepted 1 1 (span 28 28 (codes " %.c") ∷ []) (Becomes (codes ".RECIPEPREFIX = .\nifdef B\na: %.c\nifdef A\n\ty\nendif\nendif\r\nelse ifdef Q\r\nendif\r\nendef\r\n\t \r\n\tx\r\n"))) ∷  -- mixed-426
    (codes "> \r\n\\\nendif\n%.c: %.c \t.PHONY ", RemoveLines (OfRule None (codes "%.c")), Accepted 0 1 (span 12 29 [] ∷ []) (Becomes (codes "> \r\n\\\nendif\n"))) ∷  -- mixed-427
    (codes "> \r\n\\\nendif\n%.c: %.c \t.PHONY ", RemoveLines (OfRule None (codes "%.c")), Accepted 0 1 (span 12 29 [] ∷ []) (Becomes (codes "> \r\n\\\nendif\n"))) ∷  -- mixed-428
    (codes "x.o y: $(q:;=|)\naZ = 1\n\r\nendif\nunexport Y\r\nX+= |  \ndefine D\nX = 1\n", SetRecipe None (codes "x.o") (ByNumber 2) (codes "x"), NotMade 1 Absent) ∷  -- mixed-429
    (codes ".RECIPEPREFIX = -\nifdef A\na:\n# c\nendif\n\n\ty\nx.o y! \n\t\n\ta\\\n ", RemoveLines (OfRule None (codes "a")), Accepted 0 1 (span 26 29 [] ∷ []) (Becomes (codes ".RECIPEPREFIX = -\nifdef A\n# c\nendif\n\n\ty\nx.o y! \n\t\n\ta\\\n "))) ∷  -- mixed-430
    []

answers_29 : map (λ row. account row.0 row.1) rows_29 ≡ map (λ row. row.2) rows_29
answers_29 = refl

abbrev rows_30 : List (List ℕ × Edit × Account)
rows_30 =
    (codes "endif # c\r\n\t\\\nendif\r\n\\\nifndef X # c\r\nendef # c\r\n%.o \ta &: $(a b) $$\\\n\t\\\r\n\r\n", RemoveLines (OfRule None (codes "%.o")), NotMade 0 (SharedRule 2)) ∷  -- mixed-431
    (codes " \\\n\ta.b\\\n\\\n?= -include2 \naifdef Z\n\tx\\", ChangeValue (One None) (codes "a.b") (edits.Append (codes "%.o")), Accepted 1 1 (span 23 23 (codes " %.o") ∷ []) (Becomes (codes " \\\n\ta.b\\\n\\\n?= -include2 %.o \naifdef Z\n\tx\\"))) ∷  -- mixed-432
    (codes "foo: b\n\tx\nifdef A\n\ty\nendif\n\t\n \n\n()a\n|\\\r\n|)?$\n", RenameTarget (codes "foo") (codes "foo"), NotMade 1 Taken) ∷  -- mixed-433
    (codes "-x_9 :=#\r\n>x\r\nelse ifdef Qdefine D\nX = 1\n", RemoveLines (OfAssign None (codes "-x_9")), Accepted 0 1 (span 0 10 [] ∷ []) (Becomes (codes ">x\r\nelse ifdef Qdefine D\nX = 1\n"))) ∷  -- mixed-434
    (codes "Y = $(m \\\n n\n.RECIPEPEFIX = f\nt1= \\\n${c}\\\n\t\\\r\n\n>echo a # b\nendif # c\r\n", ChangeValue (One None) (codes "Y") (edits.Set (codes ":")), Accepted 1 1 (span 4 12 (codes ":") ∷ []) (Becomes (codes "Y = :\n.RECIPEPEFIX = f\nt1= \\\n${c}\\\n\t\\\r\n\n>echo a # b\nendif # c\r\n"))) ∷  -- mixed-435
    (codes "else ifdef Q\na: t  .PHONY\nendif # c\n>ifdef :::= \\\n$(p #)\n", SetRecipe None (codes "a") (ByNumber 2) (codes "t"), NotMade 1 Absent) ∷  -- mixed-436
    (codes "ifdef A\na: b\n\tx\nendif\n\n\ty\n\ta\\\nifndef X # c\\\n", ChangePrereqs None (codes "a") (RemovePrereq (codes "b")), Accepted 1 1 (span 10 12 [] ∷ []) (Becomes (codes "ifdef A\na:\n\tx\nendif\n\n\ty\n\ta\\\nifndef X # c\\\n"))) ∷  -- mixed-437
    (codes "-include2&:: $x # \\\nt1 \\\r\n !=\r \noverride \\\n:=  \n${c} : \\\\\n\n\\\n\\X\\\n", ChangeValue (One None) (codes "override") (edits.Append (codes "%.o")), Accepted 1 1 (span 47 47 (codes "%.o") ∷ []) (Becomes (codes "-include2&:: $x # \\\nt1 \\\r\n !=\r \noverride \\\n:=  %.o\n${c} : \\\\\n\n\\\n\\X\\\n"))) ∷  -- mixed-438
    (codes "a:\nifdef A\n\ty\nX \\\n \\\n +=a 1  \noverride define X =\naendef\n>define F \\\n\nendef\n>Z = 1\n", RemoveLines (OfRule None (codes "a")), NotMade 0 Straddles) ∷  -- mixed-439
    (codes "a:\nifdef A\n\ty\n", AddRecipe None (codes "a") Last (codes "=:9é)+"), NotMade 1 Straddles) ∷  -- mixed-440
    (codes ".RECIPEPREFIX = %\nifdef A\na: b\n\tx\nendif\n\n\ty\n\tt: u\r\nc : \\\n  # \r\r\na\tb!a: :=;\\\n", ChangePrereqs None (codes "a") (RemovePrereq (codes "b")), Accepted 1 1 (span 28 30 [] ∷ []) (Becomes (codes ".RECIPEPREFIX = %\nifdef A\na:\n\tx\nendif\n\n\ty\n\tt: u\r\nc : \\\n  # \r\r\na\tb!a: :=;\\\n"))) ∷  -- mixed-441
    (codes "foo: b\n\tx\nifdef A\n\ty\nendif\n\t\ndefine \n.RECIPEPREFIX =\\\n\n\tx\nendef # c\n\t\n", RemoveLines (OfRule None (codes "foo")), NotMade 0 Straddles) ∷  -- mixed-442
    (codes "Y = a $\n$(f {) ${g(} :  \t| a&b\tfoo#\\\\\n-include2 foo \\\r\n :ifdef :=\\\n\t${g(} ", RemoveLines (OfAssign (Some 1) (codes "Y")), Accepted 0 1 (span 0 8 [] ∷ []) (Becomes (codes "$(f {) ${g(} :  \t| a&b\tfoo#\\\\\n-include2 foo \\\r\n :ifdef :=\\\n\t${g(} "))) ∷  -- mixed-443
    (codes "Y = a $\n$(f {) ${g(} :  \t| a&b\tfoo#\\\\\n-include2 foo \\\r\n :ifdef :=\\\n\t${g(} ", SetRecipe None (codes "${g(}") (ByNumber 2) (codes "y # z"), NotMade 1 Absent) ∷  -- mixed-444
    (codes "\t$(\n\t$$ :  \n$(a b)&::\t$(q:;=|) ${c} ${c}  ;$ \\\r\n $x\\\n\\\nb\tifdef Q\ndefine D\n", ChangePrereqs None (codes "$(a b)") (RemovePrereq (codes "${c}")), Accepted 1 1 (span 30 35 [] ∷ span 35 40 [] ∷ []) (Becomes (codes "\t$(\n\t$$ :  \n$(a b)&::\t$(q:;=|)  ;$ \\\r\n $x\\\n\\\nb\tifdef Q\ndefine D\n"))) ∷  -- mixed-445
    (codes "endef\\\n\n>%.c : .PHONY \\\n  #c \\\n da\\\n\ta\\\\\\\n\telse\\&\nelse ifdef Q\r\nex\nelse\nb: b b | c b\n", RenameTarget (codes "b") (codes "$(a b)"), Accepted 1 1 (span 72 73 (codes "$(a b)") ∷ span 75 76 (codes "$(a b)") ∷ span 77 78 (codes "$(a b)") ∷ span 83 84 (codes "$(a b)") ∷ []) (Becomes (codes "endef\\\n\n>%.c : .PHONY \\\n  #c \\\n da\\\n\ta\\\\\\\n\telse\\&\nelse ifdef Q\r\nex\nelse\n$(a b): $(a b) $(a b) | c $(a b)\n"))) ∷  -- mixed-446
    (codes "endef\\\n\n>%.c : .PHONY \\\n  #c \\\n da\\\n\ta\\\\\\\n\telse\\&\nelse ifdef Q\r\nex\nelse\nb: b b | c b\n", AddRecipe None (codes "b") Last (codes "q:=1"), Accepted 1 0 (span 85 85 (codes "\tq:=1\n") ∷ []) (Becomes (codes "endef\\\n\n>%.c : .PHONY \\\n  #c \\\n da\\\n\ta\\\\\\\n\telse\\&\nelse ifdef Q\r\nex\nelse\nb: b b | c b\n\tq:=1\n"))) ∷  -- mixed-447
    (codes "endif # c\n\\\n#\\\\\\\n\nendif\n>q\\\n\t!=   #\\\\\\\n\nifndef X # c\n$(a b) :: $(f {)\tb \t$(p #) \t# c\ndefine E # c\nendif\nifndef X # c\n", ChangePrereqs None (codes "$(a b)") (RemovePrereq (codes "$(p #)")), Accepted 1 1 (span 71 79 [] ∷ []) (Becomes (codes "endif # c\n\\\n#\\\\\\\n\nendif\n>q\\\n\t!=   #\\\\\\\n\nifndef X # c\n$(a b) :: $(f {)\tb \t# c\ndefine E # c\nendif\nifndef X # c\n"))) ∷  -- mixed-448
    (codes ">\r\nea \\\n\tb\r\n endif # c\noverride=\r\nt :-include2 \n", AddRecipe None (codes "t") Last [], Accepted 1 0 (span 48 48 (codes "\t\r\n") ∷ []) (Becomes (codes ">\r\nea \\\n\tb\r\n endif # c\noverride=\r\nt :-include2 \n\t\r\n"))) ∷  -- mixed-449
    (codes ">\r\nea \\\n\tb\r\n endif # c\noverride=\r\nt :-include2 \n", AddRecipe None (codes "t") Last [], Accepted 1 0 (span 48 48 (codes "\t\r\n") ∷ []) (Becomes (codes ">\r\nea \\\n\tb\r\n endif # c\noverride=\r\nt :-include2 \n\t\r\n"))) ∷  -- mixed-450
    (codes "a:\nifdef A\nelse\n\tz\nendif\n.PHONY \t$(q:;=|)\\\n\t&::   \n.RECIPEPREFIX =\\\n\n\tendef\n>define Q\nifdef\\\nB\n", RemoveLines (OfRule (Some 1) (codes ".PHONY")), NotMade 0 (SharedRule 2)) ∷  -- mixed-451
    (codes " unexpot Y\nt1 += x.o $# \n $(s\\) x.o\t.PHONY \n\n#\\\\\n", ChangeValue (One None) (codes "t1") (edits.Append (codes "1")), Accepted 1 1 (span 23 23 (codes " 1") ∷ []) (Becomes (codes " unexpot Y\nt1 += x.o $# 1 \n $(s\\) x.o\t.PHONY \n\n#\\\\\n"))) ∷  -- mixed-452
    (codes " unexpot Y\nt1 += x.o $# \n $(s\\) x.o\t.PHONY \n\n#\\\\\n", ChangeValue (One None) (codes "t1") (edits.Set (codes "; 2 3")), Accepted 1 1 (span 17 23 (codes "; 2 3") ∷ []) (Becomes (codes " unexpot Y\nt1 += ; 2 3 \n $(s\\) x.o\t.PHONY \n\n#\\\\\n"))) ∷  -- mixed-453
    (codes "t1  += \\\n${g(}$(q:;=|)\r\n.PHONY:  |\\\n\\\n \r\nc : >q :=-include2 a\\  \r\na: a&b \t$(q:;=|)define D\nX = 1\n", SetRecipe None (codes "a") (ByNumber 1) (codes "x"), NotMade 1 Absent) ∷  -- mixed-454
    (codes "t1  += \\\n${g(}$(q:;=|)\r\n.PHONY:  |\\\n\\\n \r\nc : >q :=-include2 a\\  \r\na: a&b \t$(q:;=|)define D\nX = 1\n", ChangePrereqs None (codes "a") (AddPrereq false (codes "a&b")), NotMade 1 Already) ∷  -- mixed-455
    (codes ".RECIPEPREFIX = x\nY = $(m \\\n n\n\ten if\r\n", ChangeValue (One None) (codes "Y") (edits.Append (codes "1")), NotMade 1 OpenValue) ∷  -- mixed-456
    (codes "ifdef B\na:\nifdef A\n\ty\nendif\n \t:: endef\\\n\\\n::= $  \\\\ t \r\n\\\n\r\n", RemoveLines (OfRecipe None (codes "a") (ByNumber 1)), Accepted 0 1 (span 19 22 [] ∷ []) (Becomes (codes "ifdef B\na:\nifdef A\nendif\n \t:: endef\\\n\\\n::= $  \\\\ t \r\n\\\n\r\n"))) ∷  -- mixed-457
    (codes "ifdef B\na:\nifdef A\n\ty\nendif\n \t:: endef\\\n\\\n::= $  \\\\ t \r\n\\\n\r\n", RenameTarget (codes "a") (codes "a"), NotMade 1 Taken) ∷  -- mixed-458
    (codes "Y = $(m \\\n n\nbdefine", ChangeValue (One None) (codes "Y") (edits.Set []), Accepted 1 1 (span 4 12 [] ∷ []) (Becomes (codes "Y = \nbdefine"))) ∷  -- mixed-459
    (codes "ifdef B\na:\nifdef A\n\ty\nifdef A\n", ChangePrereqs None (codes "a") (AddPrereq false (codes "a&b")), Accepted 1 1 (span 10 10 (codes " a&b") ∷ []) (Becomes (codes "ifdef B\na: a&b\nifdef A\n\ty\nifdef A\n"))) ∷  -- mixed-460
    (codes "\ta\\\\\nifeq (a,$(b\r\n\\\n# x ; y : z = 1\n\tt: u\nendif\r\nendef\\\n\tifdef Z\r\nX = a\\", ChangeValue (One None) (codes "X") (edits.Set (codes "${g(}")), Accepted 1 1 (span 70 72 (codes "${g(}") ∷ []) (Becomes (codes "\ta\\\\\nifeq (a,$(b\r\n\\\n# x ; y : z = 1\n\tt: u\nendif\r\nendef\\\n\tifdef Z\r\nX = ${g(}"))) ∷  -- mixed-461
    (codes "x.o y: %.o $(q:;=|)\na.b += $$ \nifneq\r\nendif\r\n", ChangePrereqs None (codes "y") (AddPrereq true (codes "x.o")), Accepted 1 1 (span 19 19 (codes " | x.o") ∷ []) (Becomes (codes "x.o y: %.o $(q:;=|) | x.o\na.b += $$ \nifneq\r\nendif\r\n"))) ∷  -- mixed-462
    (codes "Y = a $\n\t\r\r\n\\:\n\na\r?|$\n", RemoveLines (OfAssign None (codes "Y")), Accepted 0 1 (span 0 8 [] ∷ []) (Becomes (codes "\t\r\r\n\\:\n\na\r?|$\n"))) ∷  -- mixed-463
    (codes "foo: $$\neendef\n\ty\r\n\t$;?\r\n\0\n>q+=\tx.o\\\n\tfoo\0 \r\ndefine & CC\\\n\t::=  \t\r\n\n\\\n=#\r\\\\\n?\nifeq (a,$(b\nendif", RemoveLines (OfRecipe (Some 1) (codes "foo") (ByNumber 0)), NotMade 0 Absent) ∷  -- mixed-464
    (codes "ifdef B\na:\nifdef A\n\ty\n", ChangePrereqs None (codes "a") (AddPrereq false (codes "a")), Accepted 1 1 (span 10 10 (codes " a") ∷ []) (Becomes (codes "ifdef B\na: a\nifdef A\n\ty\n"))) ∷  -- mixed-465
    (codes "\t$(\n>$x :: $(f {)  a&b ;.PHONY\\\n\t\n\t\n#c \\\n d\r\n-x_9 :::=\n$(X)\\\n\\\n!= $(q:;=|)a\\ $(a b) \r\n", ChangeValue (One None) (codes "-x_9") (edits.Set []), Accepted 1 1 (span 54 54 [] ∷ []) (Becomes (codes "\t$(\n>$x :: $(f {)  a&b ;.PHONY\\\n\t\n\t\n#c \\\n d\r\n-x_9 :::=\n$(X)\\\n\\\n!= $(q:;=|)a\\ $(a b) \r\n"))) ∷  -- mixed-466
    (codes "$(p #) : >q :=\\\n\\# #c \\\n d\n \\\n\tA !=\t ", ChangeValue (One None) (codes "A") (edits.Append (codes "foo")), Accepted 1 1 (span 37 37 (codes "foo") ∷ []) (Becomes (codes "$(p #) : >q :=\\\n\\# #c \\\n d\n \\\n\tA !=\t foo"))) ∷  -- mixed-467
    (codes "a:  \t\n.PHONY \\\n  %.c&:: b& $x ;  \n\techo a # b\n.RECIPEPREFIX::=t\n>$(\na :  ;  \n\techo a # b\n", ChangePrereqs None (codes "%.c") (RemovePrereq (codes "b&")), Accepted 1 1 (span 23 26 [] ∷ []) (Becomes (codes "a:  \t\n.PHONY \\\n  %.c&:: $x ;  \n\techo a # b\n.RECIPEPREFIX::=t\n>$(\na :  ;  \n\techo a # b\n"))) ∷  -- mixed-468
    (codes "$(s\\) : %.c\t\n${g(\toverride A=  foo # x ;& y : z 1Y = 2\n\t# c\n", AddRecipe None (codes "$(s\\)") Last (codes "e f \\ g"), Accepted 1 0 (span 13 13 (codes "\te f \\ g\n") ∷ []) (Becomes (codes "$(s\\) : %.c\t\n\te f \\ g\n${g(\toverride A=  foo # x ;& y : z 1Y = 2\n\t# c\n"))) ∷  -- mixed-469
    (codes "$(s\\) : %.c\t\n${g(\toverride A=  foo # x ;& y : z 1Y = 2\n\t# c\n", RemoveLines (OfRule None (codes "$(s\\)")), Accepted 0 1 (span 0 13 [] ∷ []) (Becomes (codes "${g(\toverride A=  foo # x ;& y : z 1Y = 2\n\t# c\n"))) ∷  -- mixed-470
    (codes "$$ : : .PHONY t $(a b) | \t\n\t\r\n-include2:   \n&:\\\n\texport\\\n\t\\\r\no-$(a b) ?=\\\n${c} \r\n$x\\\r\n::  override \toverride?=; c\r \n\t\\\nb $x &: x.o :c  $x\n>x\n\t\r\n", AddRecipe None (codes "-include2") Last (codes "e f \\ g"), Accepted 1 0 (span 44 44 (codes "\te f \\ g\n") ∷ []) (Becomes (codes "$$ : : .PHONY t $(a b) | \t\n\t\r\n-include2:   \n\te f \\ g\n&:\\\n\texport\\\n\t\\\r\no-$(a b) ?=\\\n${c} \r\n$x\\\r\n::  override \toverride?=; c\r \n\t\\\nb $x &: x.o :c  $x\n>x\n\t\r\n"))) ∷  -- mixed-471
    (codes "Y = \\\nfoo: \n\t \n\nfoo &:  %.c\\\n\t\\\r\na&b #\0\r\nendif\r\neendif\n", ChangeValue (One None) (codes "Y") (edits.Set []), Accepted 1 1 (span 6 11 [] ∷ []) (Becomes (codes "Y = \\\n\n\t \n\nfoo &:  %.c\\\n\t\\\r\na&b #\0\r\nendif\r\neendif\n"))) ∷  -- mixed-472
    (codes "\tendef\n>\\\n\n$(a b): ${c}\t$(s\\) ;  # \\endif\n\t$(\n", RemoveLines (OfRecipe None (codes "$(a b)") (ByNumber 1)), Accepted 0 1 (span 42 46 [] ∷ []) (Becomes (codes "\tendef\n>\\\n\n$(a b): ${c}\t$(s\\) ;  # \\endif\n"))) ∷  -- mixed-473
    (codes "x.o y: \n\t$(\r\nendef\r\nb\0a#=\na: b\n\tx\n", RemoveLines (OfRule None (codes "y")), NotMade 0 (SharedRule 2)) ∷  -- mixed-474
    (codes "load x\n\t\n \na foo: c\n\ty\n", ChangePrereqs None (codes "a") (RemovePrereq (codes "c")), Accepted 1 1 (span 17 19 [] ∷ []) (Becomes (codes "load x\n\t\n \na foo:\n\ty\n"))) ∷  -- mixed-475
    (codes "%.c :x.o#c \\\n d\nifdef Q\ndefine D\n", RemoveLines (OfRule None (codes "%.c")), Accepted 0 1 (span 0 16 [] ∷ []) (Becomes (codes "ifdef Q\ndefine D\n"))) ∷  -- mixed-476
    (codes "\t# c\r\nifeq (a,$(b\r\nifneq\r\nendef # c\r\n$(s\\):$(s\\)\\\n\t\\\r\n${c} \r\n\t\\\nt: \r\na foo: c\n\ty\n", SetRecipe None (codes "foo") (ByNumber 1) (codes " a"), Accepted 1 1 (span 79 80 (codes " a") ∷ []) (Becomes (codes "\t# c\r\nifeq (a,$(b\r\nifneq\r\nendef # c\r\n$(s\\):$(s\\)\\\n\t\\\r\n${c} \r\n\t\\\nt: \r\na foo: c\n\t a\n"))) ∷  -- mixed-477
    (codes "Y = ${u\n", RemoveLines (OfAssign None (codes "Y")), Accepted 0 1 (span 0 8 [] ∷ []) (Becomes [])) ∷  -- mixed-478
    (codes "endif\r\nifdef A\nA = x.o 1 \\\n  $(f {) \r\nendif\\\nelse\r\n>q = $(s\\) #\0\\\n\t \r\n${v -include2 &: |\\\n\t\\\r\n${c} $$ \\\n", RemoveLines (OfAssign None (codes "A")), Accepted 0 1 (span 15 38 [] ∷ []) (Becomes (codes "endif\r\nifdef A\nendif\\\nelse\r\n>q = $(s\\) #\0\\\n\t \r\n${v -include2 &: |\\\n\t\\\r\n${c} $$ \\\n"))) ∷  -- mixed-479
    (codes "\techo a #b\n\tendif\nA\\\n?= $(p #) $&$(q:;=|) # \r\nx.o t::: c c|  ${c$} .PHONY \\\r\n ; .PHONY 1a&endef\n\ta\\\n\tZ = 1\n\\\n", ChangeValue (One (Some 1)) (codes "A") (edits.Set []), Accepted 1 1 (span 24 42 [] ∷ []) (Becomes (codes "\techo a #b\n\tendif\nA\\\n?= # \r\nx.o t::: c c|  ${c$} .PHONY \\\r\n ; .PHONY 1a&endef\n\ta\\\n\tZ = 1\n\\\n"))) ∷  -- mixed-480
    []

answers_30 : map (λ row. account row.0 row.1) rows_30 ≡ map (λ row. row.2) rows_30
answers_30 = refl

abbrev rows_31 : List (List ℕ × Edit × Account)
rows_31 =
    (codes "endif # c\n :t1+=\\\nb a\\:b \n+  \nendef\\\r\n::= #\0\nx.o y: %.c \ta&b\n\techo a # b\n\\\n\t\nendif\n-x_9 ::= ${c} \ndefine D\nX = 1\n", ChangeValue (One None) (codes "-x_9") (edits.Append (codes "= 2 3")), Accepted 1 1 (span 96 96 (codes " = 2 3") ∷ []) (Becomes (codes "endif # c\n :t1+=\\\nb a\\:b \n+  \nendef\\\r\n::= #\0\nx.o y: %.c \ta&b\n\techo a # b\n\\\n\t\nendif\n-x_9 ::= ${c} = 2 3 \ndefine D\nX = 1\n"))) ∷  -- mixed-481
    (codes "Y = a $\n\t\n\\\nt: : foo $(p #) ${c}\t\r\nc: ;:${c} \n # \r\n\t\n$(p #) $(p #)&:  \nY::==  # c\n", RemoveLines (OfAssign (Some 1) (codes "Y")), Accepted 0 1 (span 0 8 [] ∷ []) (Becomes (codes "\t\n\\\nt: : foo $(p #) ${c}\t\r\nc: ;:${c} \n # \r\n\t\n$(p #) $(p #)&:  \nY::==  # c\n"))) ∷  -- mixed-482
    (codes "Y = a $\n\t\n\\\nt: : foo $(p #) ${c}\t\r\nc: ;:${c} \n # \r\n\t\n$(p #) $(p #)&:  \nY::==  # c\n", RenameTarget (codes "$(p #)") (codes "t"), Accepted 1 1 (span 53 59 (codes "t") ∷ span 60 66 (codes "t") ∷ []) (Becomes (codes "Y = a $\n\t\n\\\nt: : foo $(p #) ${c}\t\r\nc: ;:${c} \n # \r\n\t\nt t&:  \nY::==  # c\n"))) ∷  -- mixed-483
    (codes ".RECIPEPREFIX = a\nY = $(\nx.o y: \n\tt: u\nY = $(\n", RemoveLines (OfRecipe None (codes "x.o") (ByNumber 4294967295)), NotMade 0 Absent) ∷  -- mixed-484
    (codes ".RECIPEPREFIX = a\nY = $(\nx.o y: \n\tt: u\nY = $(\n", AddRecipe None (codes "y") Last (codes "x"), Accepted 1 0 (span 33 33 (codes "ax\n") ∷ []) (Becomes (codes ".RECIPEPREFIX = a\nY = $(\nx.o y: \nax\n\tt: u\nY = $(\n"))) ∷  -- mixed-485
    (codes "\tvpath %.c a\n%.o %.c: $(p #)#\n ::endef :=\t\\\\\\ \t$$ \n", RenameTarget (codes "%.c") (codes "$(s\\)"), Accepted 1 1 (span 17 20 (codes "$(s\\)") ∷ []) (Becomes (codes "\tvpath %.c a\n%.o $(s\\): $(p #)#\n ::endef :=\t\\\\\\ \t$$ \n"))) ∷  -- mixed-486
    (codes ".RECIPEPREFIX = Y\nifdef A\na:\n# c\nendif\n\ty\n", RenameTarget (codes "a") (codes "x.o"), Accepted 1 1 (span 26 27 (codes "x.o") ∷ []) (Becomes (codes ".RECIPEPREFIX = Y\nifdef A\nx.o:\n# c\nendif\n\ty\n"))) ∷  -- mixed-487
    (codes "${g(}:%.o# \\\n.ifdef Z\n\tendif\n \r\nendif\nprivate\tA+= $(\\) $# # x ; y : z = 1", RemoveLines (OfRule None (codes "${g(}")), Accepted 0 2 (span 0 29 [] ∷ []) (Becomes (codes " \r\nendif\nprivate\tA+= $(\\) $# # x ; y : z = 1"))) ∷  -- mixed-488
    (codes "a :  |t\\\n\\\n\nx.o:: t  $(p #) %.c |  \\\n \\\n #\n\nX !=  \\\r\n \n override ?= \\\r\n .PHONY\nelse ifdef Q\n>$(\ndefine := #\0\noverride A :::=  \nb: b b | c b\n", RenameTarget (codes "b") (codes "$(q:;=|)"), Accepted 1 1 (span 127 128 (codes "$(q:;=|)") ∷ span 130 131 (codes "$(q:;=|)") ∷ span 132 133 (codes "$(q:;=|)") ∷ span 138 139 (codes "$(q:;=|)") ∷ []) (Becomes (codes "a :  |t\\\n\\\n\nx.o:: t  $(p #) %.c |  \\\n \\\n #\n\nX !=  \\\r\n \n override ?= \\\r\n .PHONY\nelse ifdef Q\n>$(\ndefine := #\0\noverride A :::=  \n$(q:;=|): $(q:;=|) $(q:;=|) | c $(q:;=|)\n"))) ∷  -- mixed-489
    (codes ".RECIPEPREFIX = Y\n.RECIPEPREFIX = \nifndef X # c\r\nx.o y: \n\ta\\\\", RenameTarget (codes "y") (codes "%.o"), Accepted 1 1 (span 53 54 (codes "%.o") ∷ []) (Becomes (codes ".RECIPEPREFIX = Y\n.RECIPEPREFIX = \nifndef X # c\r\nx.o %.o: \n\ta\\\\"))) ∷  -- mixed-490
    (codes "b : $(s\\)\t$$\t$(p #) | \t\r\n&+:\t\\\ndefine=;\0\\\\\n\r\nifdef A\n\r\n", AddRecipe None (codes "b") Last [], Accepted 1 0 (span 25 25 (codes "\t\r\n") ∷ []) (Becomes (codes "b : $(s\\)\t$$\t$(p #) | \t\r\n\t\r\n&+:\t\\\ndefine=;\0\\\\\n\r\nifdef A\n\r\n"))) ∷  -- mixed-491
    (codes "b : $(s\\)\t$$\t$(p #) | \t\r\n&+:\t\\\ndefine=;\0\\\\\n\r\nifdef A\n\r\n", ChangePrereqs None (codes "b") (AddPrereq false (codes "$(s\\)")), NotMade 1 Already) ∷  -- mixed-492
    (codes "${c}:::%.o  $(q:;=|)  $x\\\n\\\n# c\nundefine X\nc:\\\n\t$(p #)  .PHONY  \nelse ifdef Q\n # x ; y : z = 1\na$\\\nendef\\\n\nprivate\na:\\", ChangePrereqs None (codes "c") (AddPrereq false (codes "-include2")), Accepted 1 1 (span 62 62 (codes " -include2") ∷ []) (Becomes (codes "${c}:::%.o  $(q:;=|)  $x\\\n\\\n# c\nundefine X\nc:\\\n\t$(p #)  .PHONY -include2  \nelse ifdef Q\n # x ; y : z = 1\na$\\\nendef\\\n\nprivate\na:\\"))) ∷  -- mixed-493
    (codes ".RECIPEPREFIX = Y\r\n(a:\t\\\n\\\\\n $\r\r\n${g(}:\\\r\nc : $(q:;\\\n=|) \r\nfoo: \n\tendef\r\n${c}: \\\r\n t \\\n \\\n : foo  .PHONY\r\nY = 1\n\tZ = 1\n", RemoveLines (OfRule None (codes "foo")), Accepted 0 1 (span 59 65 [] ∷ []) (Becomes (codes ".RECIPEPREFIX = Y\r\n(a:\t\\\n\\\\\n $\r\r\n${g(}:\\\r\nc : $(q:;\\\n=|) \r\n\tendef\r\n${c}: \\\r\n t \\\n \\\n : foo  .PHONY\r\nY = 1\n\tZ = 1\n"))) ∷  -- mixed-494
    (codes "Y = 2\n\t# c\n", ChangeValue (One None) (codes "Y") (edits.Set (codes "2 3")), Accepted 1 1 (span 4 5 (codes "2 3") ∷ []) (Becomes (codes "Y = 2 3\n\t# c\n"))) ∷  -- mixed-495
    (codes ".RECIPEPREFIX=\\\n>\nifdef?=\t", ChangeValue (One None) (codes "ifdef") (edits.Append (codes "foo")), Accepted 1 1 (span 26 26 (codes "foo") ∷ []) (Becomes (codes ".RECIPEPREFIX=\\\n>\nifdef?=\tfoo"))) ∷  -- mixed-496
    (codes ".RECIPEPREFIX = .\n %.c: %.o:a&b\\\n\t\nendef :=  # \\\n>x\n\t$(\nta \\\n\tb\n", ChangePrereqs None (codes "%.c") (RemovePrereq (codes "a&b")), Accepted 1 1 (span 28 31 [] ∷ []) (Becomes (codes ".RECIPEPREFIX = .\n %.c: %.o:\\\n\t\nendef :=  # \\\n>x\n\t$(\nta \\\n\tb\n"))) ∷  -- mixed-497
    (codes ".RECIPEPREFIX = .\n %.c: %.o:a&b\\\n\t\nendef :=  # \\\n>x\n\t$(\nta \\\n\tb\n", RenameTarget (codes "%.c") (codes "b"), Accepted 1 1 (span 19 22 (codes "b") ∷ []) (Becomes (codes ".RECIPEPREFIX = .\n b: %.o:a&b\\\n\t\nendef :=  # \\\n>x\n\t$(\nta \\\n\tb\n"))) ∷  -- mixed-498
    (codes "Y = ${u\n", ChangeValue (One None) (codes "Y") (edits.Set (codes "$x")), Accepted 1 1 (span 4 7 (codes "$x") ∷ []) (Becomes (codes "Y = $x\n"))) ∷  -- mixed-499
    (codes "a foo: c\n\ty\na foo: c\n", RemoveLines (OfRule None (codes "foo")), NotMade 0 (Ambiguous 2)) ∷  -- mixed-500
    (codes "F = -g -O2 -g # c\n", ChangeValue (One None) (codes "F") (edits.Remove (codes "-g")), Accepted 1 1 (span 4 7 [] ∷ span 10 13 [] ∷ []) (Becomes (codes "F = -O2 # c\n"))) ∷  -- drop-001
    (codes "F = -O2 \\\n    -Werror \\\n    -g\n", ChangeValue (One None) (codes "F") (edits.Remove (codes "-Werror")), Accepted 1 1 (span 7 21 [] ∷ []) (Becomes (codes "F = -O2 \\\n    -g\n"))) ∷  -- drop-002
    (codes "F = -Werror \\\n    -g\n", ChangeValue (One None) (codes "F") (edits.Remove (codes "-Werror")), Accepted 1 1 (span 4 18 [] ∷ []) (Becomes (codes "F = -g\n"))) ∷  -- drop-003
    (codes "F = -g # c\n", ChangeValue (One None) (codes "F") (edits.Remove (codes "-g")), Accepted 1 1 (span 4 7 [] ∷ []) (Becomes (codes "F = # c\n"))) ∷  -- drop-004
    (codes "F = $(A -g) -g\n", ChangeValue (One None) (codes "F") (edits.Remove (codes "-g")), Accepted 1 1 (span 11 14 [] ∷ []) (Becomes (codes "F = $(A -g)\n"))) ∷  -- drop-005
    (codes "F = -O2\n", ChangeValue (One None) (codes "F") (edits.Remove (codes "-g")), NotMade 1 Absent) ∷  -- drop-006
    (codes "F = a\\ z# c\n", ChangeValue (One None) (codes "F") (edits.Remove (codes "z")), NotMade 1 Absent) ∷  -- drop-007
    (codes "F = a\\\\ z# c\n", ChangeValue (One None) (codes "F") (edits.Remove (codes "z")), NotMade 1 OpenValue) ∷  -- drop-008
    (codes "F = a\\\\ z \\\n b\n", ChangeValue (One None) (codes "F") (edits.Remove (codes "z")), NotMade 1 OpenValue) ∷  -- drop-009
    (codes "F = -g a\\\\\n", ChangeValue (One None) (codes "F") (edits.Remove (codes "-g")), Accepted 1 1 (span 4 7 [] ∷ []) (Becomes (codes "F = a\\\\\n"))) ∷  -- drop-010
    (codes "F = a$\\ z\nG = 1\n", ChangeValue (One None) (codes "F") (edits.Remove (codes "z")), NotMade 1 OpenValue) ∷  -- drop-011
    (codes "F = $(a -g\n", ChangeValue (One None) (codes "F") (edits.Remove (codes "-g")), NotMade 1 Absent) ∷  -- drop-012
    (codes "F = \\\nz", ChangeValue (One None) (codes "F") (edits.Remove (codes "z")), Accepted 1 1 (span 6 7 [] ∷ []) (Becomes (codes "F = \\\n"))) ∷  -- drop-013
    (codes "F = a z z b\n", ChangeValue (One None) (codes "F") (edits.Remove (codes "z")), Accepted 1 1 (span 5 7 [] ∷ span 7 9 [] ∷ []) (Becomes (codes "F = a b\n"))) ∷  -- drop-014
    (codes "F = z \\\n z a\n", ChangeValue (One None) (codes "F") (edits.Remove (codes "z")), Accepted 1 1 (span 4 9 [] ∷ span 9 11 [] ∷ []) (Becomes (codes "F = a\n"))) ∷  -- drop-015
    (codes "F = z a\\ \n", ChangeValue (One None) (codes "F") (edits.Remove (codes "z")), Accepted 1 1 (span 4 6 [] ∷ []) (Becomes (codes "F = a\\ \n"))) ∷  -- drop-016
    (codes "F = a\\\\ b z\n", ChangeValue (One None) (codes "F") (edits.Remove (codes "z")), Accepted 1 1 (span 9 11 [] ∷ []) (Becomes (codes "F = a\\\\ b\n"))) ∷  -- drop-017
    (codes "X = 1\nX =\\\n \\\n", ChangeValue Every (codes "X") (edits.Set []), Accepted 2 2 (span 4 5 [] ∷ span 12 13 [] ∷ []) (Becomes (codes "X = \nX =\\\n \n"))) ∷  -- all-001
    (codes "F = -g $(a\nF = b\n", ChangeValue Every (codes "F") (edits.Add (codes "-g")), Accepted 1 1 (span 16 16 (codes " -g") ∷ []) (Becomes (codes "F = -g $(a\nF = b -g\n"))) ∷  -- all-002
    (codes "F = -g b\nF = a\\\\ -g# c\n", ChangeValue Every (codes "F") (edits.Remove (codes "-g")), NotMade 2 OpenValue) ∷  -- all-003
    (codes "F = -g a\nF = b\nF = c -g\n", ChangeValue Every (codes "F") (edits.Remove (codes "-g")), Accepted 2 2 (span 4 7 [] ∷ span 20 23 [] ∷ []) (Becomes (codes "F = a\nF = b\nF = c\n"))) ∷  -- all-004
    (codes "F = a\nt: F = a\n", ChangeValue Every (codes "F") (edits.Set (codes "b")), Accepted 1 1 (span 4 5 (codes "b") ∷ []) (Becomes (codes "F = b\nt: F = a\n"))) ∷  -- all-005
    (codes "ifdef A\nF = a\nelse\nF = b\nendif\ndefine D\nF = c\nendef\n", ChangeValue Every (codes "F") (edits.Set (codes "x")), Accepted 2 2 (span 12 13 (codes "x") ∷ span 23 24 (codes "x") ∷ []) (Becomes (codes "ifdef A\nF = x\nelse\nF = x\nendif\ndefine D\nF = c\nendef\n"))) ∷  -- all-006
    (codes "F = a\nF = a\n", ChangeValue Every (codes "F") (edits.Set (codes "a")), Accepted 2 2 (span 4 5 (codes "a") ∷ span 10 11 (codes "a") ∷ []) (Becomes (codes "F = a\nF = a\n"))) ∷  -- all-007
    (codes "F = -g\nF = -g\n", ChangeValue Every (codes "F") (edits.Add (codes "-g")), NotMade 0 Already) ∷  -- all-008
    (codes "F = $(a\nF = b\n", ChangeValue Every (codes "F") (edits.Append (codes "c")), NotMade 2 OpenValue) ∷  -- all-009
    []

answers_31 : map (λ row. account row.0 row.1) rows_31 ≡ map (λ row. row.2) rows_31
answers_31 = refl
