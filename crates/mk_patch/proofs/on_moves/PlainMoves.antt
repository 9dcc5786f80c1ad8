-- Moves of lines of no conditional: the conditionals fit after them as before.
use Rattle.std.proofs.Common.{ℕ, List, [], ◌∷◌}
use Rattle.std.specs.Prelude.{slice_get, IfSome}
use Rattle.mk_tree.specs.LocatedLines.{LocatedLine, AreConditionalsFit}
use Rattle.mk_tree.proofs.Changes.{fit-insert, fit-remove, fit-replace}
use Rattle.mk_tree.proofs.Ends.{fit-with_last}
use Rattle.mk_patch.specs.Moves.{Move, PutIn, TakeOut, Exchange, SwapEnd, IsPlain, FitsMove, FitInTurn, FitMoves, after_move}

-- the line at an index is of no conditional
abbrev pub IsPlainAt : (at : ℕ) → List LocatedLine → Type 0
IsPlainAt at ls = IfSome (slice_get ls at) IsPlain

-- a move puts in no line of a conditional, and takes none out of some lines
abbrev IsPlainMove : Move → List LocatedLine → Type 0
IsPlainMove (PutIn at l) ls = IsPlain l
IsPlainMove (TakeOut at) ls = IsPlainAt at ls
IsPlainMove (Exchange at l) ls = IsPlainAt at ls × IsPlain l
IsPlainMove (SwapEnd bytes) ls = Unit {0}

plain-conditionals : (m : Move) (n : ℕ) (ls : List LocatedLine) → IsPlainMove m ls → AreConditionalsFit n ls → AreConditionalsFit n (after_move m ls)
plain-conditionals (PutIn at l) n ls p h = fit-insert n l ls at p h
plain-conditionals (TakeOut at) n ls p h = fit-remove n ls at p h
plain-conditionals (Exchange at l) n ls p h = fit-replace n l ls at p.0 p.1 h
plain-conditionals (SwapEnd bytes) n ls p h = fit-with_last n bytes ls h

-- no move fits all lines
pub fit-none : (ls : List LocatedLine) → FitMoves [] ls
fit-none ls = record { in_turn = tt; conditionals = λ h. h }

-- a move of no line of a conditional, and then moves that fit
pub fit-plain_first : (m : Move) (ms : List Move) (ls : List LocatedLine) → FitsMove m ls → IsPlainMove m ls → FitMoves ms (after_move m ls) → FitMoves (m ∷ ms) ls
fit-plain_first m ms ls f p r = record { in_turn = (f, r.in_turn); conditionals = λ h. r.conditionals (plain-conditionals m 0 ls p h) }
