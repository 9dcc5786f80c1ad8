-- A session that the rows use: an edit puts a number at the end of the text. It is refused if the number is less than the text's
-- length.
use Rattle.std.specs.Prelude.{ℕ, nat_lt, if◌then◌else◌, List, [], ◌∷◌, ◌++◌, length, Result, Ok, Err}
use Rattle.mk_history.specs.Machine.{Command, Refusal, EditRefused, NothingToUndo, NothingToRedo, GroupOpen, NoGroup, Machine, opened, answer, next, after_calls}
use Rattle.mk_history.specs.Shown.{Shown, shown}

abbrev append : ℕ → List ℕ → Result (List ℕ) ℕ
append e t = if nat_lt e (length t) then Err 14 else Ok (t ++ e ∷ [])

-- 0 if a call is done, 14 if the edit is refused, and otherwise the number of the refusal
abbrev reply_number : {X : Type 0} → Result X (Refusal ℕ) → ℕ
reply_number (Ok x) = 0
reply_number (Err (EditRefused r)) = r
reply_number (Err NothingToUndo) = 16
reply_number (Err NothingToRedo) = 17
reply_number (Err GroupOpen) = 18
reply_number (Err NoGroup) = 19

abbrev replies_from : (depth : ℕ) → List (Command ℕ) → Machine ℕ (List ℕ) → List ℕ
replies_from depth [] m = []
replies_from depth (c ∷ cs) m = reply_number (answer append depth c m) ∷ replies_from depth cs (next append depth c m)

abbrev pub replies : (depth : ℕ) → List (Command ℕ) → List ℕ → List ℕ
replies depth cs t = replies_from depth cs (opened t)

abbrev pub shown_after : (depth : ℕ) → List (Command ℕ) → List ℕ → Shown (List ℕ)
shown_after depth cs t = shown append depth (after_calls append depth cs (opened t))
