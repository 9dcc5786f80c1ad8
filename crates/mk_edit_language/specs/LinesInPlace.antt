-- The lines of a text after an edit of lines that may stand apart, each in the place of one line.
-- Told in docs/PROOFS.md, "An edit".
use Rattle.std.specs.Prelude.{◌≡◌, ℕ, ◌+◌, ◌≤◌, if◌then◌else◌, Bool, true, false, List, [], ◌∷◌, ◌++◌, map, take, length, drop}
use Rattle.std.specs.Str.{bytes_eq}
use Rattle.mk_lines.specs.LogicalLines.{logical_lines}
use Rattle.mk_lines.specs.Pieces.{Replacement, replaced, old_bytes, new_bytes}
use Rattle.mk_class.specs.Classes.{is_conditional}
use Rattle.mk_class.specs.Contexts.{Context, start, context_after}
use Rattle.mk_class.specs.ClassTable.{class_of}
use Rattle.mk_class.specs.ClassedLines.{ClassedLine, classed_lines}
use Rattle.mk_tree.specs.Documents.{context_of, most_conditionals}
use Rattle.mk_edit_language.specs.Edits.{Edit, Every, ValueChange, EachEdit, ChangeValue, RenameTarget, EachLine}
use Rattle.mk_edit_language.specs.Costs.{cost, is_renamed}
use Rattle.mk_edit_language.specs.Refusals.{text_after}
use Rattle.mk_edit_language.specs.RisingSpans.{Rise}
use Rattle.mk_edit_language.specs.ValueChanges.{is_changed, changed_line_spans}
use Rattle.mk_edit_language.specs.EachLine.{EachChange, MarkedLine, marked, each_change, is_each_changed, each_bytes}
use Rattle.mk_edit_language.specs.WordPieces.{renamed_pieces}

-- ---- one line

-- A line in the place of one that stands in this context. It is one logical line. Its class is the
-- class that it has in the context of the line before, and the context after it is as before. If
-- the edit does not change the line before, the line after is the same, with the same class. If it
-- does, neither line is of a conditional.
pub record IsInPlace (is_changed : ClassedLine → Bool) (context : Context)
    (before after : ClassedLine)
    : Type 0 where
  pub one_line : logical_lines after.bytes ≡ after.bytes ∷ []
  pub class : class_of context after.bytes ≡ after.class
  pub context_stays : context_after context after.class ≡ context_after context before.class
  pub same : is_changed before ≡ false → after ≡ before
  pub plain : is_changed before ≡ true
      → (is_conditional before.class ≡ false) × (is_conditional after.class ≡ false)

-- ---- the lines of a text

-- Lines, each as `IsAfter` says in the place of one line; the first line stands in this context. The
-- lines before are those of some values, as of marked lines.
abbrev pub AreLinesInPlace : {M : Type 0} → (line_of : M → ClassedLine)
    → (IsAfter : Context → (before : M) → (after : ClassedLine) → Type 0) → Context
    → (before : List M) → (after : List ClassedLine) → Type 0
AreLinesInPlace f P c [] [] = Unit {0}
AreLinesInPlace f P c [] (l ∷ ls) = ⊥
AreLinesInPlace f P c (m ∷ ms) [] = ⊥
AreLinesInPlace f P c (m ∷ ms) (l ∷ ls) =
    P c m l × AreLinesInPlace f P (context_after c (f m).class) ms ls

-- the same of lines that are told by themselves
abbrev pub AreInPlace : (IsAfter : Context → (before after : ClassedLine) → Type 0) → Context
    → (before after : List ClassedLine) → Type 0
AreInPlace P c ls ms = AreLinesInPlace (λ l. l) P c ls ms

-- At how many indices two lists of lines have different bytes. An index that only one of the lists
-- has counts too.
abbrev pub differing : (before after : List (List ℕ)) → ℕ
differing [] ms = length ms
differing (l ∷ ls) [] = length (l ∷ ls)
differing (l ∷ ls) (m ∷ ms) = (if bytes_eq l m then 0 else 1) + differing ls ms

-- replacements in lines; the first line begins at this offset. Each replacement stands within one
-- line, and that line passes the test
abbrev pub StandInLines : {M : Type 0} → (line_of : M → ClassedLine) → (test : M → Bool) → (at : ℕ)
    → List M → List Replacement → Type 0
StandInLines f p at [] rs = rs ≡ []
StandInLines f p at (m ∷ ms) rs =
    let end = at + length (f m).bytes in
    (here : List Replacement) × (later : List Replacement) × (rs ≡ here ++ later)
    × Rise at end here × (p m ≡ false → here ≡ []) × StandInLines f p end ms later

-- What an edit of lines that may stand apart leaves, and what it makes of the other lines. The lines
-- before are those of the text. The logical lines after it are, line by line, what `bytes_after` makes
-- of the lines before, and each is as `IsAfter` says in its place. The context after each number of
-- lines is as before. At most as many lines have different bytes as the edit costs. The spans stand
-- within the lines that the edit changes. The greatest number of conditionals open at once is as
-- before.
pub record AreOthersKeptApart {M : Type 0} (e : Edit) (line_of : M → ClassedLine) (before : List M)
    (is_changed : M → Bool) (bytes_after : M → List ℕ)
    (IsAfter : Context → (before : M) → (after : ClassedLine) → Type 0) (t : List ℕ)
    (rs : List Replacement)
    : Type 0 where
  pub lines_before : map line_of before ≡ classed_lines t
  pub lines : logical_lines (text_after t e) ≡ map bytes_after before
  pub in_place : AreLinesInPlace line_of IsAfter start before (classed_lines (text_after t e))
  pub contexts : (number : ℕ)
      → context_of (take number (classed_lines (text_after t e)))
      ≡ context_of (take number (classed_lines t))
  pub few : differing (logical_lines t) (logical_lines (text_after t e)) ≤ cost t e
  pub within : StandInLines line_of is_changed 0 before rs
  pub same_depth : most_conditionals 0 (classed_lines (text_after t e))
      ≡ most_conditionals 0 (classed_lines t)

-- ---- after a change of every value of a name

-- the bytes of a line after the change: the line with the spans in it replaced
abbrev pub changed_bytes : (name : List ℕ) → ValueChange → ClassedLine → List ℕ
changed_bytes n c l = replaced 0 l.bytes (changed_line_spans n c 0 l.class)

-- a line after the change, in the place of a line that stands in this context
pub record IsLineChanged (n : List ℕ) (c : ValueChange) (context : Context)
    (before after : ClassedLine)
    : Type 0 where
  pub new_line : after.bytes ≡ changed_bytes n c before
  pub in_place : IsInPlace (is_changed n c) context before after

-- what the change leaves, and what it makes of the other lines
abbrev pub AreOthersKeptByChangeValues : (name : List ℕ) → ValueChange → (text : List ℕ)
    → List Replacement → Type 0
AreOthersKeptByChangeValues n c t rs =
    AreOthersKeptApart (ChangeValue Every n c) (λ l. l) (classed_lines t) (is_changed n c)
    (changed_bytes n c) (IsLineChanged n c) t rs

-- ---- after a rename

-- the bytes of a line after a rename: the line's pieces, with the new word in the place of each old
-- one, and what stands after the pieces
abbrev pub renamed_bytes : (old new : List ℕ) → ClassedLine → List ℕ
renamed_bytes o n l =
    let pieces = renamed_pieces o n l.class in
    new_bytes pieces ++ drop (length (old_bytes pieces)) l.bytes

-- A line after a rename, in the place of a line that stands in this context. The line before is its
-- pieces and a rest; the line after is these pieces with each old word replaced, and the same rest.
-- The line is changed if it has a word to rename.
pub record IsLineRenamed (o n : List ℕ) (context : Context) (before after : ClassedLine)
    : Type 0 where
  pub rest : List ℕ
  pub old_line : before.bytes ≡ old_bytes (renamed_pieces o n before.class) ++ rest
  pub new_line : after.bytes ≡ new_bytes (renamed_pieces o n before.class) ++ rest
  pub in_place : IsInPlace (is_renamed o n) context before after

-- lines after a rename, each in the place of one line; the first line stands in this context
abbrev pub AreLinesRenamedInPlace : (old new : List ℕ) → Context → (before after : List ClassedLine)
    → Type 0
AreLinesRenamedInPlace o n c ls ms = AreInPlace (IsLineRenamed o n) c ls ms

-- what a rename leaves, and what it makes of the other lines
abbrev pub AreOthersKeptByRenameTarget : (old new text : List ℕ) → List Replacement → Type 0
AreOthersKeptByRenameTarget o n t rs =
    AreOthersKeptApart (RenameTarget o n) (λ l. l) (classed_lines t) (is_renamed o n)
    (renamed_bytes o n) (IsLineRenamed o n) t rs

-- ---- after an edit of several lines that is checked by reading

-- a line after the edit, in the place of a line that stands in this context
pub record IsEachInPlace (c : EachChange) (context : Context) (before : MarkedLine)
    (after : ClassedLine)
    : Type 0 where
  pub new_line : after.bytes ≡ each_bytes c before
  pub in_place : IsInPlace (λ l. is_each_changed c before) context before.line after

-- what the edit leaves, and what it makes of the other lines
abbrev pub AreOthersKeptByEachLine : EachEdit → (text : List ℕ) → List Replacement → Type 0
AreOthersKeptByEachLine e t rs =
    AreOthersKeptApart (EachLine e) (λ (m : MarkedLine). m.line) (marked e (classed_lines t))
    (is_each_changed (each_change e)) (each_bytes (each_change e)) (IsEachInPlace (each_change e)) t rs
