-- Edits of small makefiles, by the statement in bytes and lines: those that it allows, and careless ones that it does not.
use Rattle.std.proofs.Common.{◌≡◌, refl, sym, ap, ◌∙◌, subst, arith, ℕ, zero, suc, ◌<◌, List, [], ◌∷◌, ◌++◌, length, length-append, get_or, inl, inr}
use Rattle.std.specs.Prelude.{◌⊎◌, codes, slice_index_or}
use Rattle.std.specs.List.{AllZip}
use Rattle.mk_lines.specs.PhysicalLines.{without_line_end}
use Rattle.mk_lines.specs.LogicalLines.{logical_lines}
use Rattle.mk_session.specs.Statement.{Has, Names, Lines, Line, Say, Become, Replaces, Each, Recipes}
use Rattle.mk_session.proofs.on_statement.CellTexts.{solid-all}

-- a folded assignment, a rule and its recipe line
value : List ℕ
value = codes "CC = gcc " ++ (92 ∷ 10 ∷ (codes "  -m32" ++ (10 ∷ [])))

rule : List ℕ
rule = codes "all: a.o" ++ (10 ∷ [])

recipe : List ℕ
recipe = 9 ∷ (codes "cc a.o" ++ (10 ∷ []))

lines_0 : logical_lines (codes "CC = gcc " ++ (92 ∷ 10 ∷ (codes "  -m32" ++ (10 ∷ (codes "all: a.o" ++ (10 ∷ 9 ∷ (codes "cc a.o" ++ (10 ∷ [])))))))) ≡ value ∷ rule ∷ recipe ∷ []
unfolding value rule recipe
lines_0 = refl

-- `set CC clang`
set_0 : Become (Line (codes "CC") 61 []) (Line (codes "CC") 61 (codes "clang")) (value ∷ rule ∷ []) ((codes "CC = clang" ++ (10 ∷ [])) ∷ rule ∷ [])
unfolding value
set_0 = (
  [],
  value ∷ [],
  (codes "CC = clang" ++ (10 ∷ [])) ∷ [],
  rule ∷ [],
  [],
  refl,
  (value, refl, λ plain. ([], codes "= gcc " ++ (92 ∷ 10 ∷ (codes "  -m32" ++ (10 ∷ []))), 10, 32, refl, omega arith, (2, omega arith, refl), (32 ∷ [], codes " gcc " ++ (92 ∷ 10 ∷ (codes "  -m32" ++ (10 ∷ []))), refl)), ([], value, refl)),
  (codes "CC = clang" ++ (10 ∷ []), refl, λ plain. ([], codes "= clang" ++ (10 ∷ []), 10, 32, refl, omega arith, (2, omega arith, refl), (32 ∷ [], codes " clang" ++ (10 ∷ []), refl)), (codes "CC = ", 10 ∷ [], refl)),
  refl,
  tt,
)

-- `add-after S a.c x.c`
words : List ℕ
words = codes "S = a.c " ++ (92 ∷ 10 ∷ (codes "    b.c" ++ (10 ∷ [])))

words_after : List ℕ
words_after = codes "S = a.c " ++ (92 ∷ 10 ∷ (codes "    x.c " ++ (92 ∷ 10 ∷ (codes "    b.c" ++ (10 ∷ [])))))

add_after_0 : Become (Line (codes "S") 61 []) (Line (codes "S") 61 (codes "x.c")) (words ∷ []) (words_after ∷ [])
unfolding words words_after
add_after_0 =
    let text = codes " a.c " ++ (92 ∷ 10 ∷ codes "    ") in
    let rest = codes "b.c" ++ (10 ∷ []) in
    let new = codes "x.c " ++ (92 ∷ 10 ∷ (codes "    " ++ rest)) in (
      [],
      words ∷ [],
      words_after ∷ [],
      [],
      [],
      refl,
      (words, refl, λ plain. ([], 61 ∷ (text ++ rest), 10, 32, refl, omega arith, (2, omega arith, refl), (32 ∷ [], text ++ rest, refl)), ([], words, refl)),
      (words_after, refl, λ plain. ([], 61 ∷ (text ++ new), 10, 32, refl, omega arith, (2, omega arith, refl), (32 ∷ [], text ++ new, refl)), (codes "S =" ++ text, 32 ∷ 92 ∷ 10 ∷ (codes "    " ++ rest), refl)),
      refl,
      tt,
    )

-- `operator CC :=`
operator_0 : Become (Line (codes "CC") 61 []) (Line (codes "CC") 61 (codes ":=")) (codes "CC = gcc" ∷ []) (codes "CC := gcc" ∷ [])
operator_0 = (
  [],
  codes "CC = gcc" ∷ [],
  codes "CC := gcc" ∷ [],
  [],
  [],
  refl,
  (codes "CC = gcc", refl, λ plain. ([], codes "= gcc", 10, 32, refl, omega arith, (2, omega arith, refl), (32 ∷ [], codes " gcc", refl)), ([], codes "CC = gcc", refl)),
  (codes "CC := gcc", refl, λ plain. ([], codes ":= gcc", 10, 32, refl, omega arith, (2, omega arith, refl), (codes " :", codes " gcc", refl)), (codes "CC ", codes " gcc", refl)),
  refl,
  tt,
)

-- `rename a.o b.o`
rename_0 : Replaces (codes "a.o") (codes "b.o") (codes "all: a.o x/a.o a.o") (codes "all: b.o x/a.o b.o")
rename_0 = (codes "all: " ∷ codes " x/a.o " ∷ [] ∷ [], refl, refl)

-- `line-replace` of the folded assignment, by what it says, by `ifdef CC`
line_replace_0 : Become (Say (codes "CC = gcc " ++ (92 ∷ 10 ∷ codes "  -m32"))) (Say (codes "ifdef CC")) (rule ∷ value ∷ []) (rule ∷ (codes "ifdef CC" ++ (13 ∷ 10 ∷ [])) ∷ [])
unfolding value
line_replace_0 = (rule ∷ [], value ∷ [], (codes "ifdef CC" ++ (13 ∷ 10 ∷ [])) ∷ [], [], rule ∷ [], refl, refl, refl, refl, (inl refl, tt))

-- `insert` of `endif` after a last line that has no line end
insert_0 : Become (λ up ls. ls ≡ []) (Say (codes "endif")) (codes "X = 1" ∷ []) ((codes "X = 1" ++ (10 ∷ [])) ∷ (codes "endif" ++ (10 ∷ [])) ∷ [])
insert_0 = (codes "X = 1" ∷ [], [], (codes "endif" ++ (10 ∷ [])) ∷ [], [], (codes "X = 1" ++ (10 ∷ [])) ∷ [], refl, refl, refl, refl, (inr refl, tt))

-- `recipe-subst all -s ""`, twice in one line; a line that has no such text stays
recipes_0 : Recipes (codes " -s") [] (rule ∷ (9 ∷ codes "cc -s a; ld -s a") ∷ (9 ∷ codes "cc b") ∷ []) (rule ∷ (9 ∷ codes "cc a; ld a") ∷ (9 ∷ codes "cc b") ∷ [])
recipes_0 = (inl refl, (inr (inl refl, ((9 ∷ codes "cc") ∷ codes " a; ld" ∷ codes " a" ∷ [], refl, refl)), (inl refl, tt)))

-- `values-subst /usr/local /usr`
values_0 : Each (λ l m. Has (61 ∷ []) l × Has (61 ∷ []) m × Has (codes "/usr") m) (codes "D = /usr/local" ∷ rule ∷ []) (codes "D = /usr" ∷ rule ∷ [])
values_0 = (inr ((codes "D ", codes " /usr/local", refl), (codes "D ", codes " /usr", refl), (codes "D = ", [], refl)), (inl refl, tt))

-- ---- careless edits

-- `recipes-subst a b` does not touch the line of an assignment
other_class_0 : Recipes (codes "a") (codes "b") (codes "X = a" ∷ []) (codes "X = b" ∷ []) → ⊥
other_class_0 (inl e, r) = let n : 98 ≡ 97 = ap (λ z. get_or z 4 0) e in absurd (omega (arith, n))
other_class_0 (inr (inl e, h), r) = let n : 88 ≡ 9 = ap (λ z. get_or z 0 0) e in absurd (omega (arith, n))
other_class_0 (inr (inr h, k), r) = go h.1.0 h.1.1 h.1.2 h.1.3 h.1.4.0 h.1.4.1 h.1.4.2
  where
    go : (k : ℕ) (x : List ℕ) → k < 1 → slice_index_or (codes "X = a" ∷ []) k x ≡ x → (a b : List ℕ) → x ≡ a ++ (codes ".RECIPEPREFIX" ++ b) → ⊥
    go zero x l e a b h =
        let n : 5 ≡ length (a ++ (codes ".RECIPEPREFIX" ++ b)) = ap length (e ∙ h) in
        absurd (omega (arith, n, length-append a (codes ".RECIPEPREFIX" ++ b)))
    go (suc k) x l e a b h = absurd (omega (arith, l))

-- the name `A` does not stand in the line of `BA`: what comes before its `A` is a `B`
other_name_0 : Names (codes "A") 61 (codes "BA=1") → ⊥
other_name_0 h = let n = h (solid-all (codes "A") refl) in go n.0 n.2 (n.3 ∷ n.1) n.4 n.5
  where
    go : (a : List ℕ) (y : ℕ) (r : List ℕ) → 10 ∷ codes "BA=1" ≡ a ++ y ∷ (65 ∷ r) → y < 33 → ⊥
    go [] y r e k = let no : 66 ≡ 65 = ap (λ z. get_or z 1 0) e in absurd (omega (arith, no))
    go (c ∷ []) y r e k = let same : 66 ≡ y = ap (λ z. get_or z 1 0) e in absurd (omega (arith, same, k))
    go (c ∷ d ∷ []) y r e k = let no : 61 ≡ 65 = ap (λ z. get_or z 3 0) e in absurd (omega (arith, no))
    go (c ∷ d ∷ x ∷ []) y r e k = let no : 49 ≡ 65 = ap (λ z. get_or z 4 0) e in absurd (omega (arith, no))
    go (c ∷ d ∷ x ∷ z ∷ a) y r e k = let no : 5 ≡ suc (suc (suc (suc (length (a ++ y ∷ (65 ∷ r)))))) = ap length e in absurd (omega (arith, no, length-append a (y ∷ (65 ∷ r))))

-- nor in that of `B`
other_line : Names (codes "A") 61 (codes "B=2") → ⊥
other_line h = let n = h (solid-all (codes "A") refl) in go n.0 n.2 (n.3 ∷ n.1) n.4
  where
    go : (a : List ℕ) (y : ℕ) (r : List ℕ) → 10 ∷ codes "B=2" ≡ a ++ y ∷ (65 ∷ r) → ⊥
    go [] y r e = let no : 66 ≡ 65 = ap (λ z. get_or z 1 0) e in absurd (omega (arith, no))
    go (c ∷ []) y r e = let no : 61 ≡ 65 = ap (λ z. get_or z 2 0) e in absurd (omega (arith, no))
    go (c ∷ d ∷ []) y r e = let no : 50 ≡ 65 = ap (λ z. get_or z 3 0) e in absurd (omega (arith, no))
    go (c ∷ d ∷ x ∷ a) y r e = let no : 4 ≡ suc (suc (suc (length (a ++ y ∷ (65 ∷ r))))) = ap length e in absurd (omega (arith, no, length-append a (y ∷ (65 ∷ r))))

before : Lines
before = (codes "A=1" ++ (10 ∷ [])) ∷ codes "B=2" ∷ []

after : Lines
after = (codes "A=1" ++ (10 ∷ [])) ∷ codes "B=3" ∷ []

-- a change of `A` changes no line of `B`
other_line_0 : Become (Line (codes "A") 61 []) (Line (codes "A") 61 []) before after → ⊥
unfolding before after
other_line_0 h = go h.0 h.4 h.6.0 h.7.0 h.3 (h.5 ∙ ap (λ z. h.0 ++ (z ++ h.3)) h.6.1) (h.8 ∙ ap (λ z. h.4 ++ (z ++ h.3)) h.7.1) h.6.2 h.9
  where
    go : (above ended : Lines) (l m : List ℕ) (below : Lines) → before ≡ above ++ (l ∷ below) → after ≡ ended ++ (m ∷ below) → Names (codes "A") 61 l
        → AllZip (λ l m. (m ≡ l) ⊎ (without_line_end m ≡ l)) above ended → ⊥
    go [] [] l m below e f n z =
        let one : codes "B=2" ≡ get_or below 0 [] = ap (λ z. get_or z 1 []) e in
        let other : codes "B=3" ≡ get_or below 0 [] = ap (λ z. get_or z 1 []) f in
        let no : 50 ≡ 51 = ap (λ z. get_or z 2 0) (one ∙ sym other) in
        absurd (omega (arith, no))
    go [] (x ∷ ended) l m below e f n z = absurd z
    go (a ∷ above) [] l m below e f n z = absurd z
    go (a ∷ []) (x ∷ ended) l m below e f n z = let same : codes "B=2" ≡ l = ap (λ z. get_or z 1 []) e in other_line (subst (Names (codes "A") 61) (sym same) n)
    go (a ∷ b ∷ above) (x ∷ ended) l m below e f n z =
        let no : 2 ≡ suc (suc (length (above ++ (l ∷ below)))) = ap length e in
        absurd (omega (arith, no, length-append above (l ∷ below)))

-- `line-remove endif` does not take out `endif # A`
other_text_0 : Become (Say (codes "endif")) (λ up ls. ls ≡ []) (codes "endif # A" ∷ []) [] → ⊥
other_text_0 h = go h.0 h.1 h.4 h.5 h.6 h.8 h.9
  where
    go : (above gone ended : Lines) → codes "endif # A" ∷ [] ≡ above ++ (gone ++ h.3) → Say (codes "endif") above gone → [] ≡ ended ++ (h.2 ++ h.3)
        → AllZip (λ l m. (m ≡ l) ⊎ (without_line_end m ≡ l)) above ended → ⊥
    go [] [] ended e says f z = let no : 0 ≡ 6 = ap length says in absurd (omega (arith, no))
    go [] (l ∷ []) ended e says f z =
        let same : codes "endif # A" ≡ l = ap (λ z. get_or z 0 []) e in
        let no : 10 ≡ 6 = ap length (subst (λ (x : List ℕ). Say (codes "endif") [] (x ∷ [])) (sym same) says) in
        absurd (omega (arith, no))
    go [] (l ∷ k ∷ gone) ended e says f z = let no : 1 ≡ suc (suc (length (gone ++ h.3))) = ap length e in absurd (omega (arith, no))
    go (a ∷ above) gone [] e says f z = absurd z
    go (a ∷ above) gone (b ∷ ended) e says f z = absurd (cc)
