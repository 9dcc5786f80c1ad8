-- Several lines of a text, each replaced by one.
use Rattle.std.proofs.Common.{◌≡◌, refl, sym, ap, ◌∙◌, subst, ℕ, List, [], ◌∷◌, ◌++◌, map}
use Rattle.std.proofs.lemmas.List.{append-nil}
use Rattle.mk_lines.specs.Lists.{concat}
use Rattle.mk_lines.specs.LogicalLines.{logical_lines}
use Rattle.mk_lines.proofs.on_lines.LineLemmas.{OneLine, OneLine-logical, OneLine-of, OneLine-are_lines, AreLines, AreLines-of, AreLines-logical, AreLines-one_line, AreApart, Ends, EndsBefore, lines-together, lines-apart, logical_lines-are_lines}
use Rattle.mk_lines.proofs.on_lines.LineEndLemmas.{EndsBefore-followed, EndsWhereFollowed-of}
use Rattle.mk_lines.specs.Pieces.{replaced, Piece, new_bytes}
use Rattle.mk_lines.specs.Cells.{Cell}
use Rattle.mk_class.specs.Classes.{Class}
use Rattle.mk_class.specs.Contexts.{Context, start, context_after}
use Rattle.mk_class.specs.ClassedLines.{ClassedLine, classed, classed_lines, context_after_lines}
use Rattle.mk_tree.specs.LineTexts.{text_of, context_of, bytes_of}
use Rattle.mk_tree.proofs.on_documents.LinesInText.{bytes_of-classed, text_of-bytes, AreClassed, AreClassed-cons, AreClassed-class, AreClassed-tail, AreClassed-classed}
use Rattle.mk_tree.proofs.on_changes.RunsReplaced.{Ends-append, Ends-nothing, run-replaced_same}
use Rattle.mk_tree.proofs.on_changes.SpansInLines.{after_pieces, BeginWithPieces, line_replacements, replaced_text, text-all_lines_replaced}
use Rattle.mk_tree.specs.EachReplaced.{ReplacesLine, ReplaceEach}
use Rattle.mk_tree.proofs.on_documents.DocumentLemmas.{text_of-classed_lines}

-- lines that can stand in the place of others have their classes
each-classed : (c : Context) (old new below : List ClassedLine) → ReplaceEach c old new below → AreClassed c new
each-classed c [] [] below h = refl
each-classed c [] (m ∷ ms) below h = absurd h
each-classed c (l ∷ ls) [] below h = absurd h
each-classed c (l ∷ ls) (m ∷ ms) below h =
    AreClassed-cons c m ms h.0.class (subst (λ (z : Context). AreClassed z ms) (sym h.0.context) (each-classed (context_after c l.class) ls ms below h.1))

-- lines that can stand in the place of others lead to the same context
each-context : (c : Context) (old new below : List ClassedLine) → ReplaceEach c old new below → context_after_lines c new ≡ context_after_lines c old
each-context c [] [] below h = refl
each-context c [] (m ∷ ms) below h = absurd h
each-context c (l ∷ ls) [] below h = absurd h
each-context c (l ∷ ls) (m ∷ ms) below h =
    ap (λ (z : Context). context_after_lines z ms) h.0.context ∙ each-context (context_after c l.class) ls ms below h.1

before-first : (c : Context) (t : List ℕ) (ls ms below : List ClassedLine) → ReplaceEach c ls ms below → EndsBefore t (bytes_of (ls ++ below)) → EndsBefore t (bytes_of ms)
before-first c t ls [] below h e = tt
before-first c t [] (m ∷ ms) below h e = absurd h
before-first c t (l ∷ ls) (m ∷ ms) below h e = e

-- the text of such lines has them as its lines
each-lines : (c : Context) (old new below : List ClassedLine) → ReplaceEach c old new below → logical_lines (text_of new) ≡ bytes_of new
each-lines c [] [] below h = refl
each-lines c [] (m ∷ ms) below h = absurd h
each-lines c (l ∷ ls) [] below h = absurd h
each-lines c (l ∷ ls) (m ∷ ms) below h =
    let d = context_after c l.class in
    let ih : logical_lines (concat (bytes_of ms)) ≡ bytes_of ms = ap logical_lines (sym (text_of-bytes ms)) ∙ each-lines d ls ms below h.1 in
    let e : EndsBefore (m.bytes ++ []) (bytes_of ms) = subst (λ z. EndsBefore z (bytes_of ms)) (sym (append-nil m.bytes)) (before-first d m.bytes ls ms below h.1 (EndsBefore-followed m.bytes (bytes_of (ls ++ below)) h.0.ends)) in
    ap logical_lines (ap (λ z. z ++ text_of ms) (sym (append-nil m.bytes)) ∙ ap (λ z. (m.bytes ++ []) ++ z) (text_of-bytes ms))
    ∙ lines-together (m.bytes ∷ []) (bytes_of ms) (OneLine-are_lines m.bytes (OneLine-of m.bytes h.0.one)) (AreLines-of (bytes_of ms) ih) e

-- the text of such lines ends a line if lines are below
each-ends : (c : Context) (old new : List ClassedLine) (b : ClassedLine) (below : List ClassedLine) → ReplaceEach c old new (b ∷ below) → Ends (text_of new)
each-ends c [] [] b below h = Ends-nothing
each-ends c [] (m ∷ ms) b below h = absurd h
each-ends c (l ∷ ls) [] b below h = absurd h
each-ends c (l ∷ ls) (m ∷ ms) b below h = Ends-append m.bytes (text_of ms) (first ls (EndsBefore-followed m.bytes (bytes_of (ls ++ (b ∷ below))) h.0.ends)) (each-ends (context_after c l.class) ls ms b below h.1)
  where
    first : (ls : List ClassedLine) → EndsBefore m.bytes (bytes_of (ls ++ (b ∷ below))) → Ends m.bytes
    first [] e = e
    first (x ∷ xs) e = e

ends-before : (c : Context) (old new below : List ClassedLine) → ReplaceEach c old new below → EndsBefore (text_of new) (bytes_of below)
ends-before c old new [] h = tt
ends-before c old new (b ∷ below) h = each-ends c old new b below h

-- Several lines, each replaced by one line: the lines above and below stay, and the new lines have their classes.
pub lines-replaced : (t : List ℕ) (above old below new : List ClassedLine) → classed_lines t ≡ above ++ (old ++ below) → ReplaceEach (context_of above) old new below
    → classed_lines (text_of above ++ (text_of new ++ text_of below)) ≡ above ++ (new ++ below)
lines-replaced t above old below new h e =
    let c = context_of above in
    run-replaced_same t above old below (text_of new) new h (ap (classed c) (each-lines c old new below e) ∙ each-classed c old new below e)
    (nothing old new e) (ends-before c old new below e) (each-context c old new below e)
  where
    nothing : (old new : List ClassedLine) → ReplaceEach (context_of above) old new below → old ++ below ≡ [] → EndsBefore (text_of above) (logical_lines (text_of new))
    nothing [] [] e z = tt
    nothing [] (m ∷ ms) e z = absurd e
    nothing (l ∷ ls) new e z = cc

-- All lines of a text, each replaced by one.
all_lines-replaced : (t : List ℕ) (new : List ClassedLine) → ReplaceEach start (classed_lines t) new [] → classed_lines (text_of new) ≡ new
all_lines-replaced t new e =
    ap classed_lines (sym (append-nil (text_of new)))
    ∙ (lines-replaced t [] (classed_lines t) [] new (sym (append-nil (classed_lines t))) e ∙ append-nil new)

-- ---- the lines of a text in their own places

apart-first : (l : List ℕ) (ls : List (List ℕ)) → AreLines (l ∷ ls) → OneLine l × EndsBefore l ls × AreLines ls
apart-first l ls h =
    let a : AreApart (l ∷ []) ls = lines-apart (concat (l ∷ ls)) (l ∷ []) ls (AreLines-logical (l ∷ ls) h) in
    (AreLines-one_line l a.first, subst (λ z. EndsBefore z ls) (append-nil l) a.ends, a.second)

-- lines can stand in their own places
each-self : (c : Context) (ls below : List ClassedLine) → AreClassed c ls → AreLines (bytes_of (ls ++ below)) → ReplaceEach c ls ls below
each-self c [] below k h = tt
each-self c (l ∷ ls) below k h =
    let a = apart-first l.bytes (bytes_of (ls ++ below)) h in
    (record { one = OneLine-logical l.bytes a.0; ends = EndsWhereFollowed-of l.bytes (bytes_of (ls ++ below)) a.1; class = AreClassed-class c l ls k; context = refl }, each-self (context_after c l.class) ls below (AreClassed-tail c l ls k) a.2)

-- the lines of a text can stand in their own places
pub lines-in_place : (t : List ℕ) → ReplaceEach start (classed_lines t) (classed_lines t) []
lines-in_place t =
    each-self start (classed_lines t) [] (AreClassed-classed start (logical_lines t))
    (subst AreLines (sym (bytes_of-classed start (logical_lines t)) ∙ ap bytes_of (sym (append-nil (classed_lines t)))) (logical_lines-are_lines t))

-- something is known of each line in its context
abbrev pub EachInContext : (P : Context → ClassedLine → Type 0) → Context → List ClassedLine → Type 0
EachInContext P c [] = Unit {0}
EachInContext P c (l ∷ ls) = P c l × EachInContext P (context_after c l.class) ls

-- if each line of which this is known can be replaced by another, all lines can
pub replace-each : (P : Context → ClassedLine → Type 0) (f : ClassedLine → ClassedLine)
    → ((c : Context) (l : ClassedLine) (following : List ClassedLine) → P c l → ReplacesLine c l l following → ReplacesLine c l (f l) following)
    → (c : Context) (ls below : List ClassedLine) → EachInContext P c ls → ReplaceEach c ls ls below → ReplaceEach c ls (map f ls) below
replace-each P f g c [] below h k = tt
replace-each P f g c (l ∷ ls) below h k = (g c l (ls ++ below) h.0 k.0, replace-each P f g (context_after c l.class) ls below h.1 k.1)

-- ---- all lines with their pieces replaced

-- a line with its pieces replaced, and the class that it is to have
abbrev pub with_pieces : (ClassedLine → List Piece) → (ClassedLine → Class Cell) → ClassedLine → ClassedLine
with_pieces f k l = record { bytes = new_bytes (f l) ++ after_pieces f l; class = k l }

-- the text of lines that begin with pieces
text_of-with_pieces : (f : ClassedLine → List Piece) (k : ClassedLine → Class Cell) (ls : List ClassedLine) → text_of (map (with_pieces f k) ls) ≡ replaced_text f ls
text_of-with_pieces f k [] = refl
text_of-with_pieces f k (l ∷ ls) = ap (λ z. (new_bytes (f l) ++ after_pieces f l) ++ z) (text_of-with_pieces f k ls)

-- The replacements in all lines of a text made: its lines are those with their pieces replaced.
pub all_pieces-replaced : (f : ClassedLine → List Piece) (k : ClassedLine → Class Cell) (t : List ℕ) → BeginWithPieces f (classed_lines t)
    → ReplaceEach start (classed_lines t) (map (with_pieces f k) (classed_lines t)) []
    → classed_lines (replaced 0 t (line_replacements f 0 (classed_lines t))) ≡ map (with_pieces f k) (classed_lines t)
all_pieces-replaced f k t b e =
    let new = map (with_pieces f k) (classed_lines t) in
    ap classed_lines (text-all_lines_replaced f t (classed_lines t) (text_of-classed_lines t) b ∙ sym (text_of-with_pieces f k (classed_lines t))) ∙ all_lines-replaced t new e
