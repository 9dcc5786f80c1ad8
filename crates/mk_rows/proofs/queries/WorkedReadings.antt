-- Queries and their texts. Made by `tests/definitions/query_rows.py tests/cases/readings/worked.tsv`.
use Rattle.std.proofs.Common.{◌≡◌, refl, ℕ, List, [], ◌∷◌, map, None}
use Rattle.std.specs.Prelude.{codes}
use Rattle.std.specs.Fmt.{digits}
use Rattle.mk_tree.specs.Documents.{document_lines}
use Rattle.mk_queries.specs.Queries.{vars_text, rules_text, check_text}

abbrev rows_1 : List (List ℕ × (List ℕ × List ℕ × List ℕ))
rows_1 =
    (codes "X = a \\\n \\\n b\n", (codes "1:0: X = a b\n", [], [])) ∷  -- a-value-folded-twice
    (codes "X = a\\\\ \\\n b\n", ([], [], codes "1: opaque\n")) ∷  -- a-bad-fold-is-opaque
    (codes "# a\\\\\\\nX = 1\n", ([], [], [])) ∷  -- a-bad-fold-in-a-comment
    (codes "X = \\\n", (codes "1:0: X = \\\n", [], [])) ∷  -- a-value-of-one-backslash
    (codes "\t\\\nX = 1\n", (codes "1:0: X = 1\n", [], [])) ∷  -- a-tab-led-line-with-a-fold
    (codes "a:\n\t\\\n\tb\n", ([], codes "1:0: a: [1]\n", [])) ∷  -- a-recipe-line-with-a-fold
    (codes "define D\nx \\\nendef\nendef\n", ([], [], [])) ∷  -- endef-on-a-continued-line
    (codes "# a\0\n", ([], [], [])) ∷  -- a-comment-with-a-nul
    (codes "\r\r\n", ([], [], codes "1: opaque\n")) ∷  -- a-stray-carriage-return
    (codes "a: b:: c\n", ([], [], codes "1: rough\n")) ∷  -- a-second-separator-of-two-colons
    (codes "a: b&: c\n", ([], codes "1:0: a: b&: c [0]\n", [])) ∷  -- a-pattern-that-ends-in-an-ampersand
    (codes "a\\ b: X = 1\n", (codes "1:0: a\\ b: X = 1\n", [], [])) ∷  -- a-target-with-an-escape-before-an-assignment
    (codes ": b\n", ([], codes "1:0: : b [0]\n", [])) ∷  -- no-target-before-a-colon
    (codes "&: b\n", ([], codes "1:0: &: b [0]\n", [])) ∷  -- no-target-before-a-grouped-colon
    (codes "a&&: b\n", ([], codes "1:0: a&&: b [0]\n", [])) ∷  -- an-ampersand-before-a-grouped-colon
    (codes "& : b\n", ([], codes "1:0: &: b [0]\n", [])) ∷  -- an-ampersand-apart-from-the-colon
    (codes "a: b ;\n", ([], codes "1:0: a: b [1]\n", [])) ∷  -- an-empty-inline-recipe
    (codes "a: b # ; c\n", ([], codes "1:0: a: b [0]\n", [])) ∷  -- a-comment-before-a-semicolon
    (codes "a: ; \\\n c\n", ([], codes "1:0: a: [1]\n", [])) ∷  -- an-inline-recipe-with-a-fold
    (codes "override a: X = 1\n", (codes "1:0: override a: X = 1\n", [], [])) ∷  -- a-modifier-as-a-target
    (codes "a;b: X = 1\n", ([], [], codes "1: opaque\n")) ∷  -- a-semicolon-before-the-first-colon
    (codes "a: b: | c\n", ([], codes "1:0: a: b: | c [0]\n", [])) ∷  -- a-bar-after-a-pattern
    (codes "define = 1\n", (codes "1:0: define = 1\n", [], [])) ∷  -- a-variable-named-define
    (codes "override define = 1\n", (codes "1:0: override define = 1\n", [], [])) ∷  -- a-variable-named-define-with-a-modifier
    (codes "define D\ndefine = 1\nendef = 2\nendef x\n", ([], [], [])) ∷  -- first-words-in-a-define
    (codes "define D\noverride define E\nendef\n", ([], [], [])) ∷  -- a-modifier-in-a-define
    (codes "define D\nendef#c\nendef # c\n", ([], [], [])) ∷  -- a-hash-glued-to-endef
    (codes "ifdef A\nendif#c\n", ([], [], [])) ∷  -- a-hash-glued-to-endif
    (codes "ifdef A\ndefine D\nendif\nendef\nendif\n", ([], [], [])) ∷  -- a-define-in-a-conditional
    (codes "endif : x\n", ([], codes "1:0: endif: x [0]\n", [])) ∷  -- endif-as-a-target
    (codes "ifdef A\nendif : x\n", ([], [], [])) ∷  -- endif-before-a-colon-in-a-conditional
    (codes "override X\n", ([], [], codes "1: opaque\n")) ∷  -- a-modifier-alone
    (codes "a:\n\t\n", ([], codes "1:0: a: [1]\n", [])) ∷  -- a-recipe-line-of-the-prefix-alone
    (codes "$(x)\n\t# c\n", ([], [], codes "1: opaque\n2: opaque\n")) ∷  -- a-tab-led-comment-after-an-opaque-line
    (codes "\tifdef A\n\tendif\n", ([], [], [])) ∷  -- tab-led-conditionals
    (codes ".RECIPEPREFIX = >\n>X = 1\n", (codes "1:0: .RECIPEPREFIX = >\n2:0: >X = 1\n", [], [])) ∷  -- a-prefix-led-assignment
    (codes ".RECIPEPREFIX = e\ndefine D\nendef\n", (codes "1:0: .RECIPEPREFIX = e\n", [], codes "end: defines 1\n")) ∷  -- a-prefix-that-begins-endef
    (codes ".RECIPEPREFIX = e\nifdef A\nendif\n", (codes "1:0: .RECIPEPREFIX = e\n", [], [])) ∷  -- a-prefix-that-begins-endif
    (codes "\t.RECIPEPREFIX = >\na:\n>b\n", (codes "1:0: .RECIPEPREFIX = >\n", codes "2:0: a: [1]\n", [])) ∷  -- a-tab-led-line-sets-the-prefix
    []

answers_1 : map (λ row. let lines = document_lines row.0 in (vars_text None lines, rules_text None lines, check_text lines)) rows_1 ≡ map (λ row. row.1) rows_1
unfolding digits
answers_1 = refl
