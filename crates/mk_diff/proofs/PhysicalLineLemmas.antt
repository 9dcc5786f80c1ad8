-- The first physical line of a text.
use Rattle.std.proofs.Common.{◌≡◌, ℕ, zero, suc, ◌+◌, ◌<◌, List, [], ◌∷◌, length, take, drop, get_or, refl, sym, ap, ◌∙◌, arith, eqb-true, eq-eqb}
use Rattle.std.specs.Prelude.{Some, None}
use Rattle.std.proofs.Math.Seq.{take-length, drop-length}
use Rattle.memchr.specs.Find.{IsFirstByte, is_byte}
use Rattle.mk_lines.specs.Lists.{onto_first}
use Rattle.mk_lines.specs.PhysicalLines.{physical_lines}
use Rattle.mk_lines.specs.Bytes.{byte_kind}
use Rattle.mk_lines.proofs.on_lines.LineCut.{before_lines-ordinary}
use Rattle.mk_lines.proofs.on_lists.ByteLemmas.{line_feed-byte}

-- the line up to the first line feed
up-to-feed : (text : List ℕ) (k : ℕ) → k < length text → ((j : ℕ) → j < k → get_or text j 0 ≡ 10 → ⊥) → get_or text k 0 ≡ 10
    → physical_lines text ≡ take (suc k) text ∷ physical_lines (drop (suc k) text)
up-to-feed [] k high none feed = absurd (omega arith)
up-to-feed (b ∷ text) zero high none feed = rw feed refl
up-to-feed (b ∷ text) (suc k) high none feed =
    before_lines-ordinary (byte_kind b) b (physical_lines text) (λ is. none 0 (omega arith) (line_feed-byte b is))
    ∙ ap (onto_first (b ∷ [])) (up-to-feed text k (omega arith) (λ j below. none (suc j) (omega arith)) feed)

-- the last line, which has no line feed
last-line : (text : List ℕ) → 0 < length text → ((j : ℕ) → j < length text → get_or text j 0 ≡ 10 → ⊥) → physical_lines text ≡ text ∷ []
last-line [] some none = absurd (omega arith)
last-line (b ∷ []) some none = before_lines-ordinary (byte_kind b) b [] (λ is. none 0 (omega arith) (line_feed-byte b is))
last-line (b ∷ c ∷ text) some none =
    before_lines-ordinary (byte_kind b) b (physical_lines (c ∷ text)) (λ is. none 0 (omega arith) (line_feed-byte b is))
    ∙ ap (onto_first (b ∷ [])) (last-line (c ∷ text) (omega arith) (λ j below. none (suc j) (omega arith)))

-- by what a search for the line feed tells
pub line-at_feed : (text : List ℕ) (feed : ℕ) → IsFirstByte (is_byte 10) text (Some feed)
    → physical_lines text ≡ take (feed + 1) text ∷ physical_lines (drop (feed + 1) text)
line-at_feed text feed (first, passes) =
    let found = up-to-feed text feed first.high (λ j below is. first.before j (omega arith) below (eq-eqb (get_or text j 0) 10 is)) (eqb-true (get_or text feed 0) 10 passes) in
    let more : suc feed ≡ feed + 1 = omega arith in
    found ∙ ap (λ n. take n text ∷ physical_lines (drop n text)) more

pub line-without_feed : (text : List ℕ) → 0 < length text → IsFirstByte (is_byte 10) text None
    → physical_lines text ≡ take (length text) text ∷ physical_lines (drop (length text) text)
line-without_feed text some none =
    last-line text some (λ j below is. none j (omega arith) below (eq-eqb (get_or text j 0) 10 is))
    ∙ ap (λ l. l ∷ []) (sym (take-length text)) ∙ ap (λ t. take (length text) text ∷ physical_lines t) (sym (drop-length text))
