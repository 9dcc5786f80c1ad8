-- Edits with their answers. Made by `tests/definitions/edit_rows.py tests/cases/runs.tsv`.
use Rattle.std.proofs.Common.{◌≡◌, refl, ℕ, true, false, List, [], ◌∷◌, map, Some, None}
use Rattle.std.specs.Prelude.{codes}
use Rattle.mk_class.specs.declared.assignment.Flavor.TheVariants.{Recursive, Simple}
use Rattle.mk_edit_language.specs.declared.edit.RuleSeparator.TheVariants.{Single, Double}
use Rattle.mk_edit_language.specs.Edits.{Edit, Bottom, BeforeVar, AfterVar, BeforeRule}
use Rattle.mk_edit_language.specs.Edits.{One, Every, NewAssign, NewRule, AddPrereq, RemovePrereq, ByNumber, ByText, Last, At, OfAssign, OfRule, OfRecipe, ChangeValue, ChangePrereqs, AddLine, AddRecipe, SetRecipe, RemoveLines, RenameTarget}
use Rattle.mk_edit_language.specs.Edits as edits
use Rattle.mk_edit_language.specs.declared.refusal.Refusal.TheVariants.{BadArgument, Reserved, RecipePrefix, NoSuch, Ambiguous, Absent, Already, Taken, SharedRule, Straddles, OpenValue, OpenLine, OpenDefine, Leans}
use Rattle.mk_edit_language.specs.declared.refusal.Field.TheVariants as field
use Rattle.mk_rows.proofs.edits.Outcomes.{outcome, Outcome, Becomes, Refused}

abbrev rows_1 : List (List ℕ × Edit × Outcome)
rows_1 =
    (codes "CC = gcc # c\n", ChangeValue (One None) (codes "CC") (edits.Set (codes "clang")), Becomes (codes "CC = clang # c\n")) ∷  -- set-keeps-the-comment
    (codes "F = a \\\n    b\nG=1\n", ChangeValue (One None) (codes "F") (edits.Set (codes "x y")), Becomes (codes "F = x y\nG=1\n")) ∷  -- set-replaces-a-folded-value
    (codes "X=1", AddLine Bottom (NewAssign (codes "Y") Simple (codes "2")), Becomes (codes "X=1\nY := 2\n")) ∷  -- assign-adds-the-missing-line-end
    (codes "X = a\\", AddLine Bottom (NewAssign (codes "Y") Recursive (codes "1")), Refused OpenLine) ∷  -- assign-after-an-open-line-is-refused
    (codes "foo: a \\\n b # c\n\tcmd\n", ChangePrereqs None (codes "foo") (RemovePrereq (codes "b")), Becomes (codes "foo: a # c\n\tcmd\n")) ∷  -- undepend-keeps-the-comment-and-the-recipe
    (codes "foo:\nX = 1\n\tY = 2\n", RemoveLines (OfAssign None (codes "X")), Refused Leans) ∷  -- unset-above-a-tab-led-line-is-refused
    (codes "foo:\nX = 1\nbar:\n", RemoveLines (OfAssign None (codes "X")), Becomes (codes "foo:\nbar:\n")) ∷  -- unset-between-two-rules
    (codes "ifdef A\nCC=x\nelse\nCC=y\nendif\n", ChangeValue (One None) (codes "CC") (edits.Set (codes "z")), Refused (Ambiguous 2)) ∷  -- set-of-one-of-two-assignments-is-ambiguous
    (codes "ifdef A\nCC=x\nelse\nCC=y\nendif\n", ChangeValue (One (Some 2)) (codes "CC") (edits.Set (codes "z")), Becomes (codes "ifdef A\nCC=x\nelse\nCC=z\nendif\n")) ∷  -- nth-picks-the-second-assignment
    (codes ".PHONY: clean\nall: clean\nclean:\n\t$(MAKE) clean\n", RenameTarget (codes "clean") (codes "tidy"), Becomes (codes ".PHONY: tidy\nall: tidy\ntidy:\n\t$(MAKE) clean\n")) ∷  -- rename-leaves-the-recipe-text
    (codes "X = $(foo\n", ChangeValue (One None) (codes "X") (edits.Append (codes "${)#}")), Refused OpenValue) ∷  -- append-to-an-open-reference-is-refused
    (codes "define D\nX = 1\n\tendef\nendef\n", ChangeValue (One None) (codes "X") (edits.Set (codes "2")), Refused NoSuch) ∷  -- set-inside-a-define-finds-nothing
    (codes "define D\nX = 1\n\tendef\n", AddLine Bottom (NewAssign (codes "Y") Recursive (codes "1")), Refused OpenDefine) ∷  -- assign-below-an-open-define-is-refused
    (codes "A=1\r\n", AddLine Bottom (NewAssign (codes "B") Recursive (codes "2")), Becomes (codes "A=1\r\nB = 2\r\n")) ∷  -- assign-follows-crlf
    (codes "$(call t,x)\n\tZ = 1\n", ChangeValue (One None) (codes "Z") (edits.Set (codes "2")), Refused NoSuch) ∷  -- set-below-an-opaque-line-finds-nothing
    (codes "X=\n", ChangeValue (One None) (codes "X") (edits.Set (codes "a #b")), Refused (BadArgument field.Value)) ∷  -- set-value-with-a-comment-sign-is-refused
    (codes "X=\n", ChangeValue (One None) (codes "X") (edits.Set (codes "a$(p #)b")), Becomes (codes "X=a$(p #)b\n")) ∷  -- set-value-with-a-comment-sign-inside-a-reference
    (codes "all:\n", RenameTarget (codes "all") (codes "include"), Refused Reserved) ∷  -- rename-to-a-directive-word-is-refused
    (codes ".RECIPEPREFIX = >\nfoo:\n>echo\n", AddRecipe None (codes "foo") Last (codes "ls"), Becomes (codes ".RECIPEPREFIX = >\nfoo:\n>echo\n>ls\n")) ∷  -- recipe-begins-with-the-recipe-prefix
    (codes "foo:| b\n", ChangePrereqs None (codes "foo") (AddPrereq false (codes "c")), Becomes (codes "foo: c | b\n")) ∷  -- depend-goes-before-the-order-only-bar
    (codes "foo: a\n", ChangePrereqs None (codes "foo") (AddPrereq true (codes "d")), Becomes (codes "foo: a | d\n")) ∷  -- depend-order-writes-the-bar
    (codes "foo: a a | a\n", ChangePrereqs None (codes "foo") (RemovePrereq (codes "a")), Becomes (codes "foo: |\n")) ∷  -- undepend-removes-every-equal-word
    (codes "| a: b\n", ChangePrereqs None (codes "a") (AddPrereq true (codes "c")), Refused NoSuch) ∷  -- depend-order-of-a-rough-line-finds-nothing
    (codes "X = a # c\n", ChangeValue (One None) (codes "X") (edits.Set []), Becomes (codes "X = # c\n")) ∷  -- set-to-nothing-keeps-the-comment
    (codes "foo:\nifdef A\n\tx\nendif\n", RemoveLines (OfRule None (codes "foo")), Refused Straddles) ∷  -- unrule-across-a-conditional-is-refused
    (codes "foo:\nifdef A\n\tx\nendif\n", AddRecipe None (codes "foo") Last (codes "y"), Refused Straddles) ∷  -- recipe-across-a-conditional-is-refused
    (codes "foo:\nifdef A\n\tx\nendif\n", RemoveLines (OfRecipe None (codes "foo") (ByNumber 1)), Becomes (codes "foo:\nifdef A\nendif\n")) ∷  -- recipe-del-inside-a-conditional
    (codes "all:\n\ta \\\n\tb\n\tc\n", SetRecipe None (codes "all") (ByNumber 1) (codes "x y"), Becomes (codes "all:\n\tx y\n\tc\n")) ∷  -- recipe-set-replaces-a-folded-line
    (codes "c:\n\tx\n\n# n\n\ty\nd:\n", RemoveLines (OfRule None (codes "c")), Becomes (codes "d:\n")) ∷  -- unrule-takes-blank-and-comment-lines-between-recipes
    (codes "a b: c\n", RemoveLines (OfRule None (codes "a")), Refused (SharedRule 2)) ∷  -- unrule-of-a-shared-rule-is-refused
    (codes "X = 1\n", AddLine Bottom (NewRule (codes "a b") Double (codes "$(subst x y,z,w) c")), Becomes (codes "X = 1\na b:: $(subst x y,z,w) c\n")) ∷  -- rule-with-two-targets-and-a-reference
    (codes "A=1\n\tB=2\n", AddLine (AfterVar None (codes "A")) (NewRule (codes "t") Single []), Refused Leans) ∷  -- rule-above-a-tab-led-line-is-refused
    (codes "A=1\n\tB=2\n", AddLine (AfterVar None (codes "A")) (NewAssign (codes "C") Recursive (codes "3")), Becomes (codes "A=1\nC = 3\n\tB=2\n")) ∷  -- assign-above-a-tab-led-line
    (codes "a: b\nb:\n", RenameTarget (codes "a") (codes "b"), Refused Taken) ∷  -- rename-to-a-present-target-is-refused
    (codes "a: b\nb:\n", RenameTarget (codes "c") (codes "d"), Refused NoSuch) ∷  -- rename-of-no-target-is-refused
    (codes "a: b\nb:\n", RenameTarget (codes "b") (codes "d"), Becomes (codes "a: d\nd:\n")) ∷  -- rename-of-a-target-and-a-prerequisite
    (codes "X = a\n", ChangeValue (One None) (codes "X") (edits.Append (codes "b")), Becomes (codes "X = a b\n")) ∷  -- append-writes-a-space
    (codes "X=\n", ChangeValue (One None) (codes "X") (edits.Append (codes "b")), Becomes (codes "X=b\n")) ∷  -- append-to-an-empty-value-writes-no-space
    (codes "foo:\n\tx\r", AddRecipe None (codes "foo") Last (codes "y"), Refused OpenLine) ∷  -- recipe-after-an-open-line-is-refused
    (codes "ifdef = x\n", ChangeValue (One None) (codes "ifdef") (edits.Set (codes "y")), Becomes (codes "ifdef = y\n")) ∷  -- set-of-a-variable-named-ifdef
    (codes "X=1\n", ChangeValue (One (Some 2)) (codes "X") (edits.Set (codes "3")), Refused NoSuch) ∷  -- nth-beyond-the-last-finds-nothing
    (codes "X=1\n", ChangeValue (One (Some 0)) (codes "X") (edits.Set (codes "3")), Refused NoSuch) ∷  -- nth-zero-finds-nothing
    (codes "all:\n\tx\n", AddLine (BeforeRule None (codes "all")) (NewAssign (codes "V") Recursive (codes "1")), Becomes (codes "V = 1\nall:\n\tx\n")) ∷  -- assign-before-a-rule
    (codes "foo:\nX=1\n", ChangeValue (One None) (codes "X") (edits.Set (codes "2")), Becomes (codes "foo:\nX=2\n")) ∷  -- set-below-a-rule
    (codes "X = \\\nb", ChangeValue (One None) (codes "X") (edits.Set []), Becomes (codes "X = \\\n")) ∷  -- set-to-nothing-after-a-fold-on-the-last-line
    (codes "ifdef A\nendif", AddLine Bottom (NewAssign (codes "Y") Recursive (codes "1")), Becomes (codes "ifdef A\nendif\nY = 1\n")) ∷  -- assign-after-an-endif-without-line-end
    (codes "A=1\0\nB=2\n", ChangeValue (One None) (codes "B") (edits.Set (codes "3")), Becomes (codes "A=1\0\nB=3\n")) ∷  -- set-below-a-line-with-a-nul
    (codes "A=1\nB=2\r\n", AddLine Bottom (NewAssign (codes "C") Recursive (codes "3")), Becomes (codes "A=1\nB=2\r\nC = 3\n")) ∷  -- assign-follows-the-first-line-end
    (codes "A=1\nB=2\r\n", ChangeValue (One None) (codes "B") (edits.Set (codes "4")), Becomes (codes "A=1\nB=4\r\n")) ∷  -- set-keeps-crlf
    (codes "# a \\\nX = 1\n", ChangeValue (One None) (codes "X") (edits.Set (codes "2")), Refused NoSuch) ∷  -- set-inside-a-folded-comment-finds-nothing
    []

answers_1 : map (λ row. outcome row.0 row.1) rows_1 ≡ map (λ row. row.2) rows_1
answers_1 = refl

abbrev rows_2 : List (List ℕ × Edit × Outcome)
rows_2 =
    (codes ".RECIPEPREFIX = >\nfoo:\n>a\n.RECIPEPREFIX =\nbar:\n\tb\n", AddRecipe None (codes "bar") Last (codes "c"), Becomes (codes ".RECIPEPREFIX = >\nfoo:\n>a\n.RECIPEPREFIX =\nbar:\n\tb\n\tc\n")) ∷  -- recipe-below-a-prefix-that-is-reset
    (codes ".RECIPEPREFIX = >\nfoo:\n>a\n.RECIPEPREFIX =\nbar:\n\tb\n", AddRecipe None (codes "foo") Last (codes "d"), Becomes (codes ".RECIPEPREFIX = >\nfoo:\n>a\n>d\n.RECIPEPREFIX =\nbar:\n\tb\n")) ∷  -- recipe-above-a-prefix-that-is-reset
    (codes ".RECIPEPREFIX ?= >\nX = 1\n", ChangeValue (One None) (codes "X") (edits.Set (codes "2")), Refused RecipePrefix) ∷  -- prefix-set-if-absent-refuses-every-edit
    (codes "ifdef A\n.RECIPEPREFIX = >\nendif\nX = 1\n", ChangeValue (One None) (codes "X") (edits.Set (codes "2")), Refused RecipePrefix) ∷  -- prefix-in-a-branch-refuses-every-edit
    (codes ".RECIPEPREFIX = >\nfoo:\nX = 1\n>y\n", RemoveLines (OfAssign None (codes "X")), Refused Leans) ∷  -- unset-above-a-prefix-led-line-is-refused
    (codes ".RECIPEPREFIX = >\nfoo:\nX = 1\n\ty\n", RemoveLines (OfAssign None (codes "X")), Becomes (codes ".RECIPEPREFIX = >\nfoo:\n\ty\n")) ∷  -- unset-above-a-tab-led-line-under-another-prefix
    (codes ".RECIPEPREFIX = X\nA = 1\n", AddLine Bottom (NewAssign (codes "X") Recursive (codes "2")), Refused RecipePrefix) ∷  -- assign-that-would-begin-with-the-prefix-is-refused
    (codes ".RECIPEPREFIX = X\nA = 1\n", AddLine (BeforeVar None (codes "B")) (NewAssign (codes "X") Recursive (codes "2")), Refused NoSuch) ∷  -- no-such-place-comes-before-the-prefix
    (codes ".RECIPEPREFIX = X\nA = 1\n", AddLine Bottom (NewAssign (codes "Y") Recursive (codes "2")), Becomes (codes ".RECIPEPREFIX = X\nA = 1\nY = 2\n")) ∷  -- assign-that-does-not-begin-with-the-prefix
    (codes ".RECIPEPREFIX = t\nall: a\n", RenameTarget (codes "all") (codes "tidy"), Refused RecipePrefix) ∷  -- rename-that-would-begin-with-the-prefix-is-refused
    (codes ".RECIPEPREFIX = t\nall: a\n", RenameTarget (codes "all") (codes "new"), Becomes (codes ".RECIPEPREFIX = t\nnew: a\n")) ∷  -- rename-that-does-not-begin-with-the-prefix
    (codes ".RECIPEPREFIX = t\nall: a\n", ChangeValue (One None) (codes ".RECIPEPREFIX") (edits.Set (codes "x")), Refused Reserved) ∷  -- set-of-the-prefix-is-refused
    (codes "X = \\\n", ChangeValue (One None) (codes "X") (edits.Set (codes "b")), Becomes (codes "X = b\n")) ∷  -- set-of-a-value-that-is-a-lone-backslash
    (codes "X = \\\n", ChangeValue (One None) (codes "X") (edits.Set []), Becomes (codes "X = \n")) ∷  -- set-to-nothing-of-a-lone-backslash
    (codes "X = \\\n", ChangeValue (One None) (codes "X") (edits.Append (codes "b")), Refused OpenValue) ∷  -- append-to-a-lone-backslash-is-refused
    (codes "A=\\\r\n1\nB=2\n", AddLine Bottom (NewAssign (codes "C") Recursive (codes "3")), Becomes (codes "A=\\\r\n1\nB=2\nC = 3\r\n")) ∷  -- assign-follows-the-first-physical-line-of-a-fold
    (codes "A=1\r\nB=2", AddLine Bottom (NewAssign (codes "C") Recursive (codes "3")), Becomes (codes "A=1\r\nB=2\r\nC = 3\r\n")) ∷  -- assign-adds-a-missing-crlf
    (codes "# c\r", AddLine Bottom (NewAssign (codes "C") Recursive (codes "3")), Refused OpenLine) ∷  -- assign-after-a-comment-ending-in-cr-is-refused
    (codes "X=\n", ChangeValue (One None) (codes "X") (edits.Set []), Becomes (codes "X=\n")) ∷  -- set-of-nothing-to-nothing
    (codes "X =   # c\n", ChangeValue (One None) (codes "X") (edits.Set (codes "b")), Becomes (codes "X =   b# c\n")) ∷  -- set-of-an-empty-value-touches-the-comment
    (codes "X = \\\n\n", ChangeValue (One None) (codes "X") (edits.Set (codes "b")), Becomes (codes "X = \\\nb\n")) ∷  -- set-of-an-empty-value-after-a-fold
    (codes "X = \\\n # c\n", ChangeValue (One None) (codes "X") (edits.Set (codes "b")), Becomes (codes "X = \\\n b# c\n")) ∷  -- set-of-an-empty-value-after-a-fold-and-before-a-comment
    (codes "X = a \\\n # c\n", ChangeValue (One None) (codes "X") (edits.Set []), Becomes (codes "X = # c\n")) ∷  -- set-to-nothing-takes-the-fold-before-the-comment
    (codes "X = a \\\n\n", ChangeValue (One None) (codes "X") (edits.Set []), Becomes (codes "X = \n")) ∷  -- set-to-nothing-takes-the-fold-after-the-value
    (codes "X = a  \n", ChangeValue (One None) (codes "X") (edits.Set []), Becomes (codes "X = \n")) ∷  -- set-to-nothing-takes-the-blanks-after-the-value
    (codes "X = \\\nb\n", ChangeValue (One None) (codes "X") (edits.Set []), Becomes (codes "X = \\\n\n")) ∷  -- set-to-nothing-keeps-the-fold-before-the-value
    (codes "X = \\\n b", ChangeValue (One None) (codes "X") (edits.Set []), Becomes (codes "X = \\\n ")) ∷  -- set-to-nothing-leaves-a-blank-last-line
    (codes "X = \\\r\nb", ChangeValue (One None) (codes "X") (edits.Set []), Becomes (codes "X = \\\r\n")) ∷  -- set-to-nothing-leaves-a-backslash-before-crlf
    (codes "X = \\\n\\", ChangeValue (One None) (codes "X") (edits.Set []), Becomes (codes "X = \\\n")) ∷  -- set-to-nothing-of-a-backslash-after-a-fold
    (codes "X = a$\\\n\n", ChangeValue (One None) (codes "X") (edits.Append (codes "b")), Becomes (codes "X = a$\\\n b\n")) ∷  -- append-after-a-dollar-and-a-fold
    (codes "X = a$ # c\n", ChangeValue (One None) (codes "X") (edits.Append (codes "b")), Becomes (codes "X = a$  b# c\n")) ∷  -- append-after-a-dollar-and-a-blank
    (codes "X = a\\ \n", ChangeValue (One None) (codes "X") (edits.Append (codes "b")), Becomes (codes "X = a\\  b\n")) ∷  -- append-after-a-backslash-and-a-blank
    (codes "X = a$\\\n", ChangeValue (One None) (codes "X") (edits.Append (codes "b")), Becomes (codes "X = a$\\ b\n")) ∷  -- append-after-a-dollar-and-a-backslash
    (codes "X = # c\n", ChangeValue (One None) (codes "X") (edits.Append (codes "b")), Becomes (codes "X = b# c\n")) ∷  -- append-to-an-empty-value-before-a-comment
    (codes "X = a$# b\n", ChangeValue (One None) (codes "X") (edits.Set (codes "c")), Becomes (codes "X = c\n")) ∷  -- set-of-a-value-with-a-dollar-and-a-comment-sign
    (codes ".RECIPEPREFIX = t\nall:\n tidy:\n", RenameTarget (codes "all") (codes "tidy"), Refused RecipePrefix) ∷  -- prefix-comes-before-a-taken-name
    (codes ".RECIPEPREFIX = t\nX = a\\", AddLine Bottom (NewAssign (codes "t") Recursive (codes "1")), Refused RecipePrefix) ∷  -- prefix-comes-before-an-open-line
    (codes ".RECIPEPREFIX = t\ndefine D\n", AddLine Bottom (NewAssign (codes "t") Recursive (codes "1")), Refused RecipePrefix) ∷  -- prefix-comes-before-an-open-define
    (codes ".RECIPEPREFIX = t\n all: a\n", RenameTarget (codes "all") (codes "tidy"), Becomes (codes ".RECIPEPREFIX = t\n tidy: a\n")) ∷  -- rename-of-an-indented-target-under-a-prefix
    (codes "define .RECIPEPREFIX=\nendef\nX=1\n", ChangeValue (One None) (codes "X") (edits.Set (codes "2")), Becomes (codes "define .RECIPEPREFIX=\nendef\nX=2\n")) ∷  -- define-of-the-prefix-with-an-operator-sets-none
    (codes "a: .RECIPEPREFIX = >\nX=1\n", ChangeValue (One None) (codes "X") (edits.Set (codes "2")), Becomes (codes "a: .RECIPEPREFIX = >\nX=2\n")) ∷  -- target-assignment-of-the-prefix-sets-none
    (codes ".RECIPEPREFIX = $(x)\nX=1\n", ChangeValue (One None) (codes "X") (edits.Set (codes "2")), Refused RecipePrefix) ∷  -- prefix-that-begins-with-a-dollar-refuses-every-edit
    (codes "X=1\n", AddLine Bottom (NewAssign (codes ".RECIPEPREFIX") Recursive (codes "a #")), Refused (BadArgument field.Value)) ∷  -- bad-value-comes-before-a-reserved-name
    (codes "include: x\n", RenameTarget (codes "include") (codes "y"), Refused Reserved) ∷  -- rename-of-a-directive-word-is-refused
    (codes "include: x\n", ChangePrereqs None (codes "include") (AddPrereq false (codes "y")), Refused Reserved) ∷  -- depend-of-a-directive-word-is-refused
    (codes "a:\n", ChangePrereqs None (codes "a") (AddPrereq false (codes "include")), Becomes (codes "a: include\n")) ∷  -- depend-on-a-directive-word
    (codes "define D\nx\\", AddLine Bottom (NewAssign (codes "Y") Recursive (codes "1")), Refused OpenLine) ∷  -- open-line-comes-before-an-open-define
    (codes "a a: b\n", RemoveLines (OfRule None (codes "a")), Refused (SharedRule 2)) ∷  -- unrule-of-a-target-named-twice-is-refused
    (codes "a:\n", RenameTarget (codes "a") (codes "a"), Refused Taken) ∷  -- rename-to-itself-is-refused
    (codes "foo:\nX = 1\n\t# c\n", RemoveLines (OfAssign None (codes "X")), Refused Leans) ∷  -- unset-above-a-tab-led-comment-is-refused
    []

answers_2 : map (λ row. outcome row.0 row.1) rows_2 ≡ map (λ row. row.2) rows_2
answers_2 = refl

abbrev rows_3 : List (List ℕ × Edit × Outcome)
rows_3 =
    (codes "$(x)\nX = 1\n\tfoo\n", RemoveLines (OfAssign None (codes "X")), Refused Leans) ∷  -- unset-between-opaque-lines-is-refused
    (codes "foo:\nifdef A\nendif\n", AddRecipe None (codes "foo") Last (codes "y"), Becomes (codes "foo:\n\ty\nifdef A\nendif\n")) ∷  -- recipe-of-a-rule-without-one-goes-before-the-conditional
    (codes "foo: ; x\n", RemoveLines (OfRecipe None (codes "foo") (ByNumber 1)), Refused Absent) ∷  -- inline-recipe-has-no-number
    (codes "a: X = 1\n", ChangePrereqs None (codes "a") (AddPrereq false (codes "b")), Refused NoSuch) ∷  -- depend-of-a-target-assignment-finds-nothing
    (codes "a: X = 1\n", RenameTarget (codes "a") (codes "b"), Becomes (codes "b: X = 1\n")) ∷  -- rename-in-a-target-assignment
    ([], AddLine Bottom (NewRule (codes "$&") Single []), Refused (BadArgument field.Targets)) ∷  -- target-that-ends-in-an-ampersand-is-refused
    (codes "X=1\n", AddLine (BeforeVar None []) (NewAssign (codes "Y") Recursive (codes "1")), Refused (BadArgument field.Place)) ∷  -- empty-place-is-refused
    (codes "X=1\n", AddLine Bottom (NewRule (codes " ") Single []), Refused (BadArgument field.Targets)) ∷  -- rule-without-a-target-is-refused
    (codes "X=1\n", AddLine Bottom (NewRule (codes "a") Single (codes "b\tc ")), Becomes (codes "X=1\na: b c\n")) ∷  -- rule-joins-prerequisites-by-one-space
    (codes "a: x b b\\\n c\n", ChangePrereqs None (codes "a") (RemovePrereq (codes "b")), Becomes (codes "a: x\\\n c\n")) ∷  -- undepend-keeps-the-fold-after-the-last-word
    (codes "a: p: b\n", ChangePrereqs None (codes "a") (RemovePrereq (codes "b")), Becomes (codes "a: p:\n")) ∷  -- undepend-after-a-pattern
    (codes "a: p: b\n", ChangePrereqs None (codes "a") (RemovePrereq (codes "p")), Refused Absent) ∷  -- pattern-is-no-prerequisite
    (codes "a: p:\n", ChangePrereqs None (codes "a") (AddPrereq false (codes "b")), Becomes (codes "a: p: b\n")) ∷  -- depend-after-a-pattern
    (codes "a:;x\n", ChangePrereqs None (codes "a") (AddPrereq false (codes "b")), Becomes (codes "a: b;x\n")) ∷  -- depend-before-a-glued-inline-recipe
    (codes "a:#c\n", ChangePrereqs None (codes "a") (AddPrereq true (codes "b")), Becomes (codes "a: | b#c\n")) ∷  -- depend-order-before-a-glued-comment
    (codes "a:|;x\n", ChangePrereqs None (codes "a") (AddPrereq true (codes "b")), Becomes (codes "a:| b;x\n")) ∷  -- depend-order-after-a-glued-bar
    (codes "a:\\\n | b\n", ChangePrereqs None (codes "a") (AddPrereq false (codes "c")), Becomes (codes "a: c\\\n | b\n")) ∷  -- depend-before-a-fold-and-a-bar
    (codes "a: b\n", ChangePrereqs None (codes "a") (AddPrereq true (codes "b")), Becomes (codes "a: b | b\n")) ∷  -- same-word-in-both-lists
    (codes "a: $(a \\\n b)\n$(a b):\n", RenameTarget (codes "$(a b)") (codes "c"), Becomes (codes "a: c\nc:\n")) ∷  -- rename-of-a-reference-with-a-fold
    (codes "X=1\n", ChangeValue (One None) (codes "X") (edits.Set (codes "2")), Becomes (codes "X=2\n")) ∷  -- quoted-command-word
    (codes "X=1\n", ChangeValue (One (Some 1)) (codes "X") (edits.Set (codes "2")), Becomes (codes "X=2\n")) ∷  -- quoted-number
    (codes "X=1\n", AddLine Bottom (NewAssign (codes "Y") Recursive (codes "1")), Becomes (codes "X=1\nY = 1\n")) ∷  -- quoted-place-and-operator
    (codes "X=1\n", ChangeValue (One (Some 1)) (codes "X") (edits.Set (codes "2")), Becomes (codes "X=2\n")) ∷  -- number-of-ten-digits
    (codes "X=1\n", ChangeValue (One None) (codes "X") (edits.Set (codes "1\r")), Refused (BadArgument field.Value)) ∷  -- script-without-line-end-that-ends-in-cr
    (codes "X=1\n", ChangeValue (One None) (codes "X") (edits.Set (codes "a\"b")), Becomes (codes "X=a\"b\n")) ∷  -- quote-inside-a-bare-field
    (codes "X=1\n", AddLine (AfterVar (Some 1) (codes "X")) (NewAssign (codes "Y") Recursive (codes "1")), Becomes (codes "X=1\nY = 1\n")) ∷  -- nth-before-a-place
    (codes "a:\n\tx\n", RemoveLines (OfRecipe None (codes "a") (ByNumber 0)), Refused Absent) ∷  -- recipe-line-zero-is-refused
    (codes "F = -O2\n", ChangeValue (One None) (codes "F") (edits.Add (codes "-g")), Becomes (codes "F = -O2 -g\n")) ∷  -- add-puts-a-word-after-the-value
    (codes "F = -O2 -g\n", ChangeValue (One None) (codes "F") (edits.Add (codes "-g")), Refused Already) ∷  -- add-of-a-word-that-is-there-is-refused
    (codes "F =\n", ChangeValue (One None) (codes "F") (edits.Add (codes "-g")), Becomes (codes "F =-g\n")) ∷  -- add-to-an-empty-value-writes-no-space
    (codes "F = x\n", ChangeValue (One None) (codes "F") (edits.Add (codes "a b")), Refused (BadArgument field.Word)) ∷  -- add-of-two-words-is-refused
    (codes "F = a$\\\n\n", ChangeValue (One None) (codes "F") (edits.Add (codes "b")), Refused OpenValue) ∷  -- add-after-a-dollar-and-a-fold-is-refused
    (codes "F = -g -O2 -g # c\n", ChangeValue (One None) (codes "F") (edits.Remove (codes "-g")), Becomes (codes "F = -O2 # c\n")) ∷  -- drop-takes-each-such-word
    (codes "F = -O2 \\\n    -Werror \\\n    -g\n", ChangeValue (One None) (codes "F") (edits.Remove (codes "-Werror")), Becomes (codes "F = -O2 \\\n    -g\n")) ∷  -- drop-takes-the-fold-before-a-word
    (codes "F = -Werror \\\n    -g\n", ChangeValue (One None) (codes "F") (edits.Remove (codes "-Werror")), Becomes (codes "F = -g\n")) ∷  -- drop-of-the-first-word-takes-the-fold-after-it
    (codes "F = -g # c\n", ChangeValue (One None) (codes "F") (edits.Remove (codes "-g")), Becomes (codes "F = # c\n")) ∷  -- drop-of-the-only-word-keeps-the-comment
    (codes "F = $(A -g) -g\n", ChangeValue (One None) (codes "F") (edits.Remove (codes "-g")), Becomes (codes "F = $(A -g)\n")) ∷  -- drop-leaves-a-word-inside-a-reference
    (codes "F = -g a\\\\\n", ChangeValue (One None) (codes "F") (edits.Remove (codes "-g")), Becomes (codes "F = a\\\\\n")) ∷  -- drop-before-a-word-that-ends-in-backslashes
    (codes "F = -O2\n", ChangeValue (One None) (codes "F") (edits.Remove (codes "-g")), Refused Absent) ∷  -- drop-of-a-word-that-is-not-there-is-refused
    (codes "F = a\\\\ z# c\n", ChangeValue (One None) (codes "F") (edits.Remove (codes "z")), Refused OpenValue) ∷  -- drop-after-backslashes-is-refused
    (codes "F = x\n", ChangeValue (One None) (codes "F") (edits.Remove (codes "a b")), Refused (BadArgument field.Word)) ∷  -- drop-of-two-words-is-refused
    (codes "c:\n\ta\n\tb\n", AddRecipe None (codes "c") (At 2) (codes "x"), Becomes (codes "c:\n\ta\n\tx\n\tb\n")) ∷  -- recipe-insert-between-two-lines
    (codes "c:\n\ta\n\n# n\n\tb\n", AddRecipe None (codes "c") (At 2) (codes "x"), Becomes (codes "c:\n\ta\n\n# n\n\tx\n\tb\n")) ∷  -- recipe-insert-goes-below-a-comment
    (codes "c:\n", AddRecipe None (codes "c") (At 1) (codes "x"), Becomes (codes "c:\n\tx\n")) ∷  -- recipe-insert-into-a-rule-without-a-recipe
    (codes "c:\n\ta\n", AddRecipe None (codes "c") (At 3) (codes "x"), Refused Absent) ∷  -- recipe-insert-two-below-the-last-is-refused
    (codes "a:\n\tx\n", AddRecipe None (codes "a") (At 0) (codes "y"), Refused Absent) ∷  -- recipe-insert-at-zero-is-refused
    (codes "foo:\nifdef A\n\tx\nendif\n", AddRecipe None (codes "foo") (At 1) (codes "y"), Refused Straddles) ∷  -- recipe-insert-across-a-conditional-is-refused
    (codes "foo:\nifdef A\n\tx\nendif\n", AddRecipe None (codes "foo") (At 3) (codes "y"), Refused Absent) ∷  -- recipe-insert-tells-a-bad-number-before-a-conditional
    (codes ".RECIPEPREFIX = >\nfoo:\n>a\n.RECIPEPREFIX =\nbar:\n\tb\n", AddRecipe None (codes "bar") (At 1) (codes "c"), Becomes (codes ".RECIPEPREFIX = >\nfoo:\n>a\n.RECIPEPREFIX =\nbar:\n\tc\n\tb\n")) ∷  -- recipe-insert-below-a-prefix-that-is-reset
    (codes "foo:\n\tx\r", AddRecipe None (codes "foo") (At 1) (codes "y"), Becomes (codes "foo:\n\ty\n\tx\r")) ∷  -- recipe-insert-before-an-open-line
    []

answers_3 : map (λ row. outcome row.0 row.1) rows_3 ≡ map (λ row. row.2) rows_3
answers_3 = refl

abbrev rows_4 : List (List ℕ × Edit × Outcome)
rows_4 =
    (codes "foo:\n\tx\r", AddRecipe None (codes "foo") (At 2) (codes "y"), Refused OpenLine) ∷  -- recipe-insert-after-an-open-line-is-refused
    (codes "c:\n\ta", AddRecipe None (codes "c") (At 2) (codes "x"), Becomes (codes "c:\n\ta\n\tx\n")) ∷  -- recipe-insert-ends-a-last-line-without-line-end
    (codes "c:\n\trm -f x\n\ttrue\n", SetRecipe None (codes "c") (ByText (codes "rm -f x")) (codes "rm -rf x"), Becomes (codes "c:\n\trm -rf x\n\ttrue\n")) ∷  -- recipe-replace-by-the-text
    (codes "c:\n\ttrue\n\ttrue\n", RemoveLines (OfRecipe None (codes "c") (ByText (codes "true"))), Refused (Ambiguous 2)) ∷  -- recipe-remove-of-a-text-that-stands-twice-is-refused
    (codes "c:\n\ttrue\n", RemoveLines (OfRecipe None (codes "c") (ByText (codes "false"))), Refused Absent) ∷  -- recipe-remove-of-a-text-that-is-not-there-is-refused
    (codes "c:\n\ttrue\n\tls\n", RemoveLines (OfRecipe None (codes "c") (ByText (codes "ls"))), Becomes (codes "c:\n\ttrue\n")) ∷  -- recipe-remove-by-the-text
    (codes "c:\n\ta\nd:\n\tb\n", SetRecipe None (codes "d") (ByText (codes "a")) (codes "x"), Refused Absent) ∷  -- recipe-replace-looks-at-the-meant-rule-alone
    (codes "c:\n\ta \\\n\tb\n", SetRecipe None (codes "c") (ByText (codes "a b")) (codes "x"), Refused Absent) ∷  -- recipe-replace-finds-no-folded-line
    (codes "c:\n\ta\nc:\n\ta\n", SetRecipe (Some 2) (codes "c") (ByText (codes "a")) (codes "x"), Becomes (codes "c:\n\ta\nc:\n\tx\n")) ∷  -- recipe-replace-of-the-rule-that-nth-picks
    (codes "c:\n\ta\n", SetRecipe None (codes "c") (ByText (codes "a\\")) (codes "x"), Refused (BadArgument field.Old)) ∷  -- recipe-replace-tests-the-old-text
    (codes "foo:\n\tx\nifdef A\n\ty\nendif\n", SetRecipe None (codes "foo") (ByText (codes "y")) (codes "z"), Becomes (codes "foo:\n\tx\nifdef A\n\tz\nendif\n")) ∷  -- recipe-replace-across-a-conditional
    (codes "c:\n\t\n\ta\n", RemoveLines (OfRecipe None (codes "c") (ByText [])), Becomes (codes "c:\n\ta\n")) ∷  -- recipe-remove-of-an-empty-line
    (codes "c:\n\ttrue \n\ttrue\n", SetRecipe None (codes "c") (ByText (codes "true")) (codes "x"), Becomes (codes "c:\n\ttrue \n\tx\n")) ∷  -- recipe-replace-counts-a-line-by-its-whole-text
    (codes "X = a\nifdef A\nX := b # c\nendif\nX=c\nY = 1\n", ChangeValue Every (codes "X") (edits.Set (codes "1")), Becomes (codes "X = 1\nifdef A\nX := 1 # c\nendif\nX=1\nY = 1\n")) ∷  -- all-set-changes-each-line
    (codes "X = a\n", ChangeValue Every (codes "X") (edits.Set (codes "b")), Becomes (codes "X = b\n")) ∷  -- all-set-of-one-line
    (codes "F = -g # c\nF += \\\n -O2\nF =\n", ChangeValue Every (codes "F") (edits.Append (codes "-W")), Becomes (codes "F = -g -W # c\nF += \\\n -O2 -W\nF =-W\n")) ∷  -- all-append-writes-to-each-line
    (codes "F = -g\nF += -O2\noverride F = $(A -g)\n", ChangeValue Every (codes "F") (edits.Add (codes "-g")), Becomes (codes "F = -g\nF += -O2 -g\noverride F = $(A -g) -g\n")) ∷  -- all-add-leaves-the-lines-that-have-the-word
    (codes "F = -g\nF += -O2 -g\n", ChangeValue Every (codes "F") (edits.Add (codes "-g")), Refused Already) ∷  -- all-add-where-each-line-has-the-word-is-refused
    (codes "F = -g \\\n  -O2\nF += -O3\nF += -W -g # c\n", ChangeValue Every (codes "F") (edits.Remove (codes "-g")), Becomes (codes "F = -O2\nF += -O3\nF += -W # c\n")) ∷  -- all-drop-leaves-the-lines-that-lack-the-word
    (codes "F = -O2\nF += -O3\n", ChangeValue Every (codes "F") (edits.Remove (codes "-g")), Refused Absent) ∷  -- all-drop-where-no-line-has-the-word-is-refused
    (codes "F = -g # c\nF += -g\n", ChangeValue Every (codes "F") (edits.Remove (codes "-g")), Becomes (codes "F = # c\nF += \n")) ∷  -- all-drop-empties-a-value
    (codes "X = 1\nt: F = 2\n", ChangeValue Every (codes "F") (edits.Set (codes "1")), Refused NoSuch) ∷  -- all-set-of-a-name-that-no-line-has-is-refused
    (codes "X = 1\nt: X = 2\nX = 3\n", ChangeValue Every (codes "X") (edits.Set (codes "4")), Becomes (codes "X = 4\nt: X = 2\nX = 4\n")) ∷  -- all-set-leaves-assignments-for-targets
    (codes "F = a\nF += $(b\nF += c\n", ChangeValue Every (codes "F") (edits.Append (codes "d")), Refused OpenValue) ∷  -- all-append-to-one-open-value-is-refused
    (codes "F = -g a\nF += $(b\nF += a\\\\\n", ChangeValue Every (codes "F") (edits.Remove (codes "-g")), Becomes (codes "F = a\nF += $(b\nF += a\\\\\n")) ∷  -- all-drop-asks-no-line-that-it-leaves
    (codes "F = -g\nF += a\\\\ -g# c\n", ChangeValue Every (codes "F") (edits.Remove (codes "-g")), Refused OpenValue) ∷  -- all-drop-after-backslashes-is-refused
    (codes "F = b\nF += a$\\\n\n", ChangeValue Every (codes "F") (edits.Add (codes "b")), Refused OpenValue) ∷  -- all-add-to-a-value-that-ends-in-a-fold-is-refused
    (codes ".RECIPEPREFIX = >\n.RECIPEPREFIX = @\n", ChangeValue Every (codes ".RECIPEPREFIX") (edits.Set (codes "%")), Refused Reserved) ∷  -- all-set-of-the-recipe-prefix-is-refused
    (codes "ifdef A\n.RECIPEPREFIX = >\nendif\nX = 1\n", ChangeValue Every (codes "X") (edits.Set (codes "2")), Refused RecipePrefix) ∷  -- all-below-a-prefix-that-is-not-read-is-refused
    (codes "all = 1\nall = 2\nall: x\n", ChangeValue Every (codes "all") (edits.Set (codes "all")), Becomes (codes "all = all\nall = all\nall: x\n")) ∷  -- all-of-a-variable-named-all
    (codes "X = 1\nX = \\\n2", ChangeValue Every (codes "X") (edits.Set (codes "3")), Becomes (codes "X = 3\nX = \\\n3")) ∷  -- all-set-at-the-end-without-a-line-end
    (codes "X = 1\r\nX = 2 \\\r\n 3\r\n", ChangeValue Every (codes "X") (edits.Set (codes "4")), Becomes (codes "X = 4\r\nX = 4\r\n")) ∷  -- all-set-with-lines-that-end-in-cr-lf
    []

answers_4 : map (λ row. outcome row.0 row.1) rows_4 ≡ map (λ row. row.2) rows_4
answers_4 = refl
