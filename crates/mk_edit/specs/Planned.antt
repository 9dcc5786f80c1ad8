-- What the planning of an edit answers.
-- Told in docs/PROOFS.md, "An edit".
use Rattle.std.specs.Prelude.{◌≡◌, ◌⊎◌, ◌+◌, ◌≤◌, if◌then◌else◌, ℕ, List, length, Option, Some, None, Result, Ok, Err, IfOk, IfErr, OnOk, IsOkUnless}
use Rattle.mk_lines.specs.Pieces.{Replacement}
use Rattle.mk_class.specs.ClassedLines.{ClassedLine, classed_lines}
use Rattle.mk_tree.specs.Counting.{AreCounted}
use Rattle.mk_tree.specs.LocatedLines.{LocatedLine, located_text}
use Rattle.mk_tree.specs.Documents.{IsFaithful, IsFaithfulTo}
use Rattle.mk_tree.specs.Readings.{reading}
use Rattle.mk_edit_language.specs.Edits.{Edit, ExchangeLines, Uncomment, SwitchLine}
use Rattle.mk_edit_language.specs.Stretches.{Stretch, insertion}
use Rattle.mk_edit_language.specs.LineRuns.{site_found}
use Rattle.mk_edit_language.specs.Changes.{change}
use Rattle.mk_edit_language.specs.Costs.{cost, size}
use Rattle.mk_edit_language.specs.Refusals.{spans, text_after}
use Rattle.mk_edit_language.specs.declared.refusal.Refusal.{Refusal}
use Rattle.mk_edit_language.specs.declared.refusal.Refusal.TheVariants.{NoMemory, Misread, Leans}
use Rattle.mk_patch.specs.Moves.{Move, FitMoves, after_moves, held_by, taken_by}
use Rattle.mk_edit.specs.PlannedMoves.{follows_unended}

-- the stretch where the new lines of an edit go, if it puts lines between others or in their place
abbrev pub new_lines_place : List ClassedLine → Edit → Option Stretch
new_lines_place ls (ExchangeLines s ts) = site_found ls s
new_lines_place ls e = insertion ls e

-- how many last lines get a line end if new lines go into a stretch: one, if they go after a last line
-- without a line end
abbrev pub ended_by : List LocatedLine → Option Stretch → ℕ
ended_by ls None = 0
ended_by ls (Some s) = if follows_unended ls (length s.above) then 1 else 0

-- how many last lines get a line end by an edit
abbrev pub ended_lines : List LocatedLine → Edit → ℕ
ended_lines ls e = ended_by ls (new_lines_place (classed_lines (located_text ls)) e)

-- A patch planned for a document. The edit has spans. The patch fits the document, and leads to the
-- document of the text with these spans replaced, which is faithful and reads as the edit's stated
-- change says. The patch holds exactly as many lines as the edit reads again, and takes out exactly
-- as many as the edit's size says; each number is one higher if a last line gets a line end.
pub record IsPlanned (e : Edit) (ls : List LocatedLine) (patch : List Move) : Type 0 where
  pub replacements : List Replacement
  pub spans_are : spans (located_text ls) e ≡ Ok replacements
  pub fit : FitMoves patch ls
  pub leads : IsFaithfulTo (after_moves patch ls) (text_after (located_text ls) e)
  pub faithful : IsFaithful (after_moves patch ls)
  pub reads : reading (text_after (located_text ls) e) ≡ change (located_text ls) e
  pub held : held_by patch ≡ cost (located_text ls) e + ended_lines ls e
  pub taken : taken_by patch ≡ size (located_text ls) e + ended_lines ls e

-- what an edit's new lines read as decides whether the lines below lean on them: it puts in whole lines,
-- takes them out or exchanges them, or takes the `#` from a comment
abbrev pub LeansAsRead : Edit → Type 0
LeansAsRead (ExchangeLines s ts) = Unit {0}
LeansAsRead (SwitchLine Uncomment nth n) = Unit {0}
LeansAsRead e = ⊥

-- No cause of an edit holds, or none but those that its new lines decide: that they are misread, or
-- that the lines below lean on what they read as.
abbrev pub IsUnrefused : (text : List ℕ) → Edit → Type 0
IsUnrefused t e =
    ((rs : List Replacement) × (spans t e ≡ Ok rs))
    ⊎ ((spans t e ≡ Err Misread) ⊎ (LeansAsRead e × (spans t e ≡ Err Leans)))

-- A refusal of an edit of a text: the first refusal whose cause holds; or NoMemory, if a growth was
-- refused and no cause holds, but perhaps one that needs the new lines.
abbrev pub IsRefusal : (text : List ℕ) → Edit → Refusal → Type 0
IsRefusal t e r =
    (spans t e ≡ Err r) ⊎ ((r ≡ NoMemory) × IsUnrefused t e)

-- The planning of an edit answers a planned patch, or a refusal of the edit. It reads anew as many
-- lines as the edit costs, or at most that many if the edit is refused. The two numbers are those
-- of the lines read before the call and after it.
pub record Plans (e : Edit) (ls : List LocatedLine) (read_before read_after : ℕ)
    (result : Result (List Move) Refusal) : Type 0 where
  pub planned : IfOk result (λ patch. IsPlanned e ls patch)
  pub refused : IfErr result (λ refusal. IsRefusal (located_text ls) e refusal)
  pub counted : OnOk result (AreCounted read_before (cost (located_text ls) e) read_after)
  pub few_read : read_after ≤ read_before + cost (located_text ls) e
  pub forward : read_before ≤ read_after

-- A call whose causes are decided reads this many lines anew, or at most that many if a growth is
-- refused, which is its only refusal.
pub record ReadsAnew {A : Type 0} (lines read_before read_after : ℕ) (result : Result A Refusal)
    : Type 0 where
  pub refused : IsOkUnless result NoMemory
  pub counted : OnOk result (AreCounted read_before lines read_after)
  pub few_read : read_after ≤ read_before + lines
  pub forward : read_before ≤ read_after
