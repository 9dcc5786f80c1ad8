-- The bytes of a part of a line, and of a value, without a word, by the ranges of the words.
-- Told in docs/ARCHITECTURE.md, "An edit's way, from Edit to moved lines".
use Rattle.std.specs.Prelude.{ℕ, ◌+◌, if◌then◌else◌, Bool, true, List, [], ◌∷◌, ◌++◌}
use Rattle.std.specs.Str.{bytes_eq}
use Rattle.mk_lines.specs.Cells.{Cell, raw_text}
use Rattle.mk_lines.specs.Ranges.{text_at}
use Rattle.mk_lines.specs.declared.split.Span.{Span}

-- the raw bytes of the joined bytes from one offset up to another
abbrev pub raw_between : List Cell → (start end : ℕ) → List ℕ
raw_between cs start end = raw_text (text_at cs (record { start = start; end = end }))

-- The raw bytes of a part of a line without each word that is this one and what stands between it
-- and the word before it. The part begins at this offset of the line and has this text. The spans
-- are the ranges of its words that are still to come, and the bytes before `done` are done.
abbrev pub without_words : (cells : List Cell) → (start : ℕ) → (text word : List ℕ) → (done : ℕ)
    → List Span → (end : ℕ) → List ℕ
without_words cs start t w done [] end = raw_between cs done end
without_words cs start t w done (s ∷ ss) end =
    (if bytes_eq (text_at t s) w then [] else raw_between cs done (start + s.end))
    ++ without_words cs start t w (start + s.end) ss end

-- The raw bytes of the words of a value that stay: each with what stands between it and the word
-- before it, but the first one by itself. `stays` says whether a word before `done` stays.
abbrev pub staying_words : (cells : List Cell) → (start : ℕ) → (text word : List ℕ)
    → (stays : Bool) → (done : ℕ) → List Span → List ℕ
staying_words cs start t w b done [] = []
staying_words cs start t w b done (s ∷ ss) =
    if bytes_eq (text_at t s) w
    then staying_words cs start t w b (start + s.end) ss
    else raw_between cs (if b then done else start + s.start) (start + s.end)
    ++ staying_words cs start t w true (start + s.end) ss

-- whether some word stays; `stays` says whether one does of those before
abbrev pub some_stays : (text word : List ℕ) → (stays : Bool) → List Span → Bool
some_stays t w b [] = b
some_stays t w b (s ∷ ss) =
    if bytes_eq (text_at t s) w then some_stays t w b ss else some_stays t w true ss

-- where the last of some ranges ends, or this offset if there is no range
abbrev pub last_end : (at : ℕ) → List Span → ℕ
last_end at [] = at
last_end at (s ∷ ss) = last_end s.end ss
