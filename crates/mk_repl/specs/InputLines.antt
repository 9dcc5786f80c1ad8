-- The lines of a source that are read one after the other, and what a read takes of the source.
-- Told in docs/PROTOCOL.md, "Lines".
use Rattle.std.specs.Prelude.{◌≡◌, ◌≤◌, ◌<◌, ℕ, Bool, true, false, not, ◌==◌, List, [], ◌∷◌, ◌++◌, length, Option, None, Some, Result, Err, ⊤, IfSome}
use Rattle.std.specs.Io.KnownBytes.{Keeps, IsAtEnd}
use Rattle.std.specs.Io.BufRead.{drop_through}
use Rattle.mk_lines.specs.Lists.{leading}
use Rattle.mk_lines.specs.PhysicalLines.{physical_lines}
use Rattle.mk_lines.specs.declared.fault.Fault.{Fault}
use Rattle.mk_lines.specs.declared.fault.Fault.TheVariants.{NoMemory, TooLong, Read}
use Rattle.mk_repl.specs.declared.line.LineRead as read
use Rattle.mk_repl.specs.declared.line.LineRead.TheVariants as line_read

-- the bytes of a line before its line feed
abbrev pub before_line_feed : List ℕ → List ℕ
before_line_feed line = leading (λ b. not (b == 10)) line

-- a line that is too long to be read
abbrev pub IsLong : List ℕ → Type 0
IsLong line = 65536 ≤ length (before_line_feed line)

-- a line that is read
abbrev pub IsShort : List ℕ → Type 0
IsShort line = length (before_line_feed line) < 65536

-- This is the first of the known bytes' physical lines, and they lose it.
abbrev pub LosesLine : (before after : Option (List ℕ)) → List ℕ → Type 0
LosesLine None after line = ⊤
LosesLine (Some bytes) None line = ⊥
LosesLine (Some bytes) (Some rest) line =
    (bytes ≡ line ++ rest) × (physical_lines bytes ≡ line ∷ physical_lines rest)

-- Known bytes lose what is left of their first line.
abbrev pub LosesRest : (before after : Option (List ℕ)) → Type 0
LosesRest before after = IfSome before (λ bytes. after ≡ Some (drop_through 10 bytes))

-- A line was read: this one; or one that is too long; or there is none.
abbrev pub IsLineRead : (before after : Option (List ℕ)) → (line : List ℕ) → read.LineRead → Type 0
IsLineRead before after line line_read.Line = LosesLine before after line × IsShort line
IsLineRead before after line line_read.TooLong =
    (long : List ℕ) × LosesLine before after long × IsLong long
IsLineRead before after line line_read.End =
    IsAtEnd before × Keeps before after × (line ≡ [])

-- a fault that the reading of a line can answer
abbrev pub IsLineFault : Fault → Type 0
IsLineFault NoMemory = Unit {0}
IsLineFault TooLong = Unit {0}
IsLineFault Read = Unit {0}
IsLineFault other = ⊥

-- a read of the source has answered a fault
abbrev pub is_read_fault : {A : Type 0} → Result A Fault → Bool
is_read_fault (Err Read) = true
is_read_fault result = false
