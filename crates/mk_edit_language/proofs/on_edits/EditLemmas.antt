-- The laws of every edit: what is read after it, and which lines it leaves.
use Rattle.std.proofs.Common.{◌≡◌, List, ℕ}
use Rattle.std.specs.Prelude.{Ok}
use Rattle.mk_lines.specs.Pieces.{Replacement}
use Rattle.mk_edit_language.specs.Edits.{Every, Edit, ChangeValue, RenameTarget, ExchangeLines, EachLine}
use Rattle.mk_edit_language.specs.KeptLines.{IsOfOnePlace, TouchFew}
use Rattle.mk_edit_language.specs.Refusals.{spans}
use Rattle.mk_edit_language.specs.EditLaws.{ReadsAsChanged, LeavesOthers}
use Rattle.mk_edit_language.proofs.on_edits.MadeEdits.{one_place-made}
use Rattle.mk_edit_language.proofs.on_changes.ChangeValuesLemmas.{change_values-reads}
use Rattle.mk_edit_language.proofs.on_edits.KeptByChangeValuesLemmas.{change_values-keeps}
use Rattle.mk_edit_language.proofs.on_renames.RenameTargetLemmas.{rename_target-reads}
use Rattle.mk_edit_language.proofs.on_edits.KeptByRenameTargetLemmas.{rename_target-keeps}
use Rattle.mk_edit_language.proofs.on_line_runs.LinesExchanged.{lines-exchanged}
use Rattle.mk_edit_language.proofs.on_each_line.EachLineLemmas.{each_line-reads, each_line-keeps}

-- each edit reads as changed
pub edits-read : (edit : Edit) → ReadsAsChanged edit
edits-read (ChangeValue Every n c) = change_values-reads n c
edits-read (RenameTarget o n) = rename_target-reads o n
edits-read (ExchangeLines s ts) = λ t rs h. (lines-exchanged s ts t rs h).reads
edits-read (EachLine e) = each_line-reads e
edits-read e = λ t rs h. (one_place-made e tt t rs h).reads

-- each edit leaves the lines that its spans do not touch
pub edits-keep : (edit : Edit) → LeavesOthers edit
edits-keep (ChangeValue Every n c) = change_values-keeps n c
edits-keep (RenameTarget o n) = rename_target-keeps o n
edits-keep (ExchangeLines s ts) = λ t rs h. (lines-exchanged s ts t rs h).kept
edits-keep (EachLine e) = each_line-keeps e
edits-keep e = λ t rs h. (one_place-made e tt t rs h).kept

-- the spans of an edit of one place stand within at most as many lines as its size says
pub spans-touch_few : (t : List ℕ) (e : Edit) (rs : List Replacement) → IsOfOnePlace e → spans t e ≡ Ok rs → TouchFew t e rs
spans-touch_few t e rs p h = let K = (one_place-made e p t rs h).kept in record { touched = K.touched; stretch = K.before; within = K.within; few = K.few_gone }
