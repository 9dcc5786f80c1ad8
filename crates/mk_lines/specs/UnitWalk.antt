-- Units and words one after the other: what follows the first one of a text, and the ranges of the
-- others.
use Rattle.std.specs.Prelude.{ℕ, ◌+◌, ◌-◌, ◌==◌, if◌then◌else◌, not, Option, Some, None, List, [], ◌∷◌, length}
use Rattle.mk_lines.specs.Lists.{concat, after_leading}
use Rattle.mk_lines.specs.Units.{units}
use Rattle.mk_lines.specs.Words.{is_gap, tokens}
use Rattle.mk_lines.specs.Ranges.{piece_ranges, word_token_ranges}
use Rattle.mk_lines.specs.declared.split.Span.{Span}

-- what follows the bracket that closes a reference, in which `depth` brackets are open in addition
-- to its own; None if no bracket closes it
abbrev pub after_close : (opening closing depth : ℕ) → List ℕ → Option (List ℕ)
after_close opening closing depth [] = None
after_close opening closing depth (b ∷ t) =
    if b == opening then after_close opening closing (depth + 1) t else
    if b == closing
    then (if depth == 0 then Some t else after_close opening closing (depth - 1) t)
    else
    after_close opening closing depth t

-- the text from its first unit on that is a single blank; nothing if no unit is
abbrev pub after_word : List ℕ → List ℕ
after_word t = concat (after_leading (λ u. not (is_gap (λ b. b) u)) (units (λ b. b) t))

-- the ranges of the units of `rest`, the end of a text of `text_len` bytes
abbrev pub units_left : (text_len : ℕ) → (rest : List ℕ) → List Span
units_left text_len rest = piece_ranges (text_len - length rest) (units (λ b. b) rest)

-- the ranges of the words of `rest`, the end of a text of `text_len` bytes
abbrev pub words_left : (text_len : ℕ) → (rest : List ℕ) → List Span
words_left text_len rest =
    word_token_ranges (text_len - length rest) (tokens (λ b. b) (units (λ b. b) rest))
