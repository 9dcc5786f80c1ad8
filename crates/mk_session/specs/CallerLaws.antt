-- What a caller of a session relies on, stated of what its calls promise: what the text is after an
-- edit, and that it is what it was after an undo, a redo, the end of a group or its cancel.
-- Told in docs/LIBRARY.md, "Laws for callers".
use Rattle.std.specs.Prelude.{◌≡◌, ℕ, ◌<◌, List, [], ◌∷◌, ◌++◌, length, map, Some, None, Ok}
use Rattle.mk_lines.specs.Pieces.{Replacement}
use Rattle.mk_class.specs.ClassedLines.{ClassedLine, classed_lines}
use Rattle.mk_edit_language.specs.Edits.{Edit}
use Rattle.mk_edit_language.specs.Stretches.{Stretch, IsStretchOf, insertion, touched_by}
use Rattle.mk_edit_language.specs.KeptLines.{IsOfOnePlace, above_after}
use Rattle.mk_edit_language.specs.Refusals.{spans, text_after}
use Rattle.mk_history.specs.Machine.{Apply, Undo, Redo, Begin, End, Cancel}
use Rattle.mk_history.specs.Shown.{Shown}
use Rattle.mk_session.specs.Sessions.{answer}
use Rattle.mk_session.specs.InTurn.{answers, as_group}

-- what is seen of a session
abbrev State : Type 0
State = Shown (List ℕ)

-- ---- an edit

-- An edit that is made has spans in the text, and the text after it is the text before with these
-- replaced. All laws of edits speak of these two.
abbrev pub EditsReplaceTheirSpans : Type 0
EditsReplaceTheirSpans = (e : Edit) (s t : State) → answer (Apply e) s ≡ Ok t
    → (rs : List Replacement) × ((spans s.text e ≡ Ok rs) × (t.text ≡ text_after s.text e))

-- Lines of one place became others: the lines that the edit touches gave way to new ones. The lines
-- above and below are as before, each with its class, but that a last line without a line end gets
-- one where a new line follows it.
pub record AreLinesKept (e : Edit) (before after : List ℕ) : Type 0 where
  pub touched : Stretch
  pub new : List ClassedLine
  pub place : touched_by (classed_lines before) e ≡ Some touched
  pub lines_before : IsStretchOf (classed_lines before) touched
  pub lines_after : classed_lines after
      ≡ above_after before (insertion (classed_lines before) e) touched ++ (new ++ touched.below)

-- An edit of one place, which is any but a rename, an edit of several lines and an edit of whole
-- lines, leaves the lines above and below its place.
abbrev pub EditsKeepTheirOtherLines : Type 0
EditsKeepTheirOtherLines = (e : Edit) (s t : State) → IsOfOnePlace e
    → answer (Apply e) s ≡ Ok t → AreLinesKept e s.text t.text

-- ---- undo and redo

-- An undo right after an edit that was made outside a group shows the text before the edit.
abbrev pub UndoTakesBackAnEdit : Type 0
UndoTakesBackAnEdit = (e : Edit) (s t u : State) → s.begun ≡ None
    → answer (Apply e) s ≡ Ok t → answer Undo t ≡ Ok u → u.text ≡ s.text

-- After an edit that was made outside a group an undo is granted, if the depth is not 0.
abbrev pub AnEditCanBeUndone : Type 0
AnEditCanBeUndone = (e : Edit) (s t : State) → s.begun ≡ None → 0 < s.depth
    → answer (Apply e) s ≡ Ok t → (u : State) × (answer Undo t ≡ Ok u)

-- A redo right after an undo is granted, and shows what was seen before the undo.
abbrev pub RedoMakesAgain : Type 0
RedoMakesAgain = (s t : State) → answer Undo s ≡ Ok t → answer Redo t ≡ Ok s

-- An undo right after a redo is granted, and shows what was seen before the redo.
abbrev pub UndoTakesBackARedo : Type 0
UndoTakesBackARedo = (s t : State) → answer Redo s ≡ Ok t → answer Undo t ≡ Ok s

-- ---- groups, call by call

-- a group is open, which began at this text
abbrev pub IsInGroup : (text : List ℕ) → State → Type 0
IsInGroup b s = s.begun ≡ Some b

-- A group begins at the text that is shown.
abbrev pub BeginOpensAGroup : Type 0
BeginOpensAGroup = (s t : State) → answer Begin s ≡ Ok t → IsInGroup s.text t

-- An edit in a group leaves the group open.
abbrev pub EditsStayInTheirGroup : Type 0
EditsStayInTheirGroup = (b : List ℕ) (e : Edit) (s t : State) → IsInGroup b s
    → answer (Apply e) s ≡ Ok t → IsInGroup b t

-- The cancel of a group shows the text at its beginning.
abbrev pub CancelShowsTheBeginning : Type 0
CancelShowsTheBeginning = (b : List ℕ) (s t : State) → IsInGroup b s
    → answer Cancel s ≡ Ok t → t.text ≡ b

-- An undo right after the end of a group that has edits shows the text at its beginning.
abbrev pub UndoTakesBackAGroup : Type 0
UndoTakesBackAGroup = (b : List ℕ) (s t u : State) → IsInGroup b s → 0 < s.pending
    → answer End s ≡ Ok t → answer Undo t ≡ Ok u → u.text ≡ b

-- ---- groups, as a whole

-- A group of edits that is cancelled shows the text before it.
abbrev pub CancelTakesBackAllEdits : Type 0
CancelTakesBackAllEdits = (es : List Edit) (s t : State)
    → answers (Begin ∷ map Apply es ++ Cancel ∷ []) s ≡ Ok t → t.text ≡ s.text

-- One undo right after a group that has edits shows the text before the group.
abbrev pub UndoTakesBackAllEdits : Type 0
UndoTakesBackAllEdits = (es : List Edit) (s t u : State) → 0 < length es
    → answers (as_group es) s ≡ Ok t → answer Undo t ≡ Ok u → u.text ≡ s.text

-- After a group that has edits an undo is granted, if the depth is not 0.
abbrev pub AGroupCanBeUndone : Type 0
AGroupCanBeUndone = (es : List Edit) (s t : State) → 0 < length es → 0 < s.depth
    → answers (as_group es) s ≡ Ok t → (u : State) × (answer Undo t ≡ Ok u)

-- A group without edits changes neither the text nor what can be undone and redone.
abbrev pub NoEditsAreNoStep : Type 0
NoEditsAreNoStep = (s t : State) → answers (as_group []) s ≡ Ok t
    → (t.text ≡ s.text) × (t.back ≡ s.back) × (t.forward ≡ s.forward)
