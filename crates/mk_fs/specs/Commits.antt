-- What became of a temporary file that was written to its end, and under which suffix the old makefile was kept.
-- Told in docs/EDITS.md, "Running a script".
use Rattle.std.specs.Prelude.{◌≡◌, ℕ, List, Option, ⊤, true, is_some}
use Rattle.std.specs.Borrow.{Bor}
use Rattle.mk_fs.specs.declared.in_place.Committed.{Committed}
use Rattle.mk_fs.specs.declared.in_place.Committed.TheVariants.{Persisted, Unchanged}
use Rattle.mk_fs.specs.declared.in_place.comparison.SameBytes.{SameBytes}
use Rattle.mk_fs.specs.declared.in_place.expected.Expected.{Expected}
use Rattle.mk_fs.specs.declared.in_place.expected.Expected.TheVariants.{AnyFile, AsRead, Nothing}
use Rattle.mk_fs.specs.declared.in_place.temporary.TemporaryFile.{TemporaryFile}

-- the temporary file that was committed
abbrev pub temporary_of : Committed → TemporaryFile
temporary_of (Persisted persisted) = persisted.temporary
temporary_of (Unchanged unchanged) = unchanged.removed.temporary

-- a makefile that was replaced was kept under this suffix before; one that was left alone was not
abbrev pub IsKeptUnder : Option (Bor (List ℕ)) → Committed → Type 0
IsKeptUnder suffix (Persisted persisted) = persisted.kept ≡ suffix
IsKeptUnder suffix (Unchanged unchanged) = ⊤

-- where the file that was read is expected, its bytes were compared with those that came of it, and were the same
abbrev pub IsLookedAt : Expected → Option SameBytes → Type 0
IsLookedAt (AsRead read) same = is_some same ≡ true
IsLookedAt AnyFile same = ⊤
IsLookedAt Nothing same = ⊤

-- a makefile that was replaced was looked at before; one that was left alone need not have been
abbrev pub IsReplaced : Expected → Committed → Type 0
IsReplaced expected (Persisted persisted) = IsLookedAt expected persisted.same
IsReplaced expected (Unchanged unchanged) = ⊤
