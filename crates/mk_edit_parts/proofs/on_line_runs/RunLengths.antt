-- How many lines a run has: by the lines of a document, and by those of its text.
use Rattle.std.proofs.Common.{◌≡◌, refl, sym, ap, ◌∙◌, arith, ℕ, suc, ◌+◌, ◌<◌, ◌≤◌, Bool, true, false, if◌then◌else◌, List, [], ◌∷◌, length, get_or, Option, Some, None, option_map}
use Rattle.std.specs.Prelude.{option_and_then}
use Rattle.std.specs.Str.{bytes_eq}
use Rattle.mk_class.specs.ClassedLines.{ClassedLine}
use Rattle.mk_tree.specs.LocatedLines.{LocatedLine, located_lines}
use Rattle.mk_edit_language.specs.Stretches.{Stretch}
use Rattle.mk_edit_language.specs.LineRuns.{texts_of, after_texts, block_lines, led_by, run_in_front}
use Rattle.mk_edit_parts.specs.LineRunWalks.{run_length}
use Rattle.mk_edit_parts.specs.Windows.{says_first}
use Rattle.mk_edit_parts.proofs.on_line_runs.BlockTexts.{block-front}
use Rattle.mk_edit_parts.proofs.on_line_runs.FilledLines.{AreFilled, line-front}

-- ---- the run in front of some lines

-- how many lines a stretch has
abbrev pub lines_in : Stretch → ℕ
lines_in s = length s.lines

pub length-front : (b : List (List ℕ)) (ls : List ClassedLine) → run_length b (located_lines ls) ≡ option_map lines_in (run_in_front b ls)
length-front [] ls = refl
length-front (x ∷ b) [] = refl
length-front (x ∷ b) (l ∷ ls) = go (λ rest. length-front rest ls) (after_texts (texts_of l.bytes) (x ∷ b))
  where
    more : (o : Option Stretch) → option_map (λ n. n + 1) (option_map lines_in o) ≡ option_map lines_in (option_map (led_by l) o)
    more None = refl
    more (Some r) = let e : length r.lines + 1 ≡ suc (length r.lines) = omega arith in ap (λ (n : ℕ). Some n) e

    go : ((rest : List (List ℕ)) → run_length rest (located_lines ls) ≡ option_map lines_in (run_in_front rest ls)) → (o : Option (List (List ℕ)))
        → option_and_then (λ rest. option_map (λ n. n + 1) (run_length rest (located_lines ls))) o ≡ option_map lines_in (option_and_then (λ rest. option_map (led_by l) (run_in_front rest ls)) o)
    go ih None = refl
    go ih (Some rest) = ap (option_map (λ n. n + 1)) (ih rest) ∙ more (run_in_front rest ls)

-- nothing stands above it
pub front-above : (b : List (List ℕ)) (ls : List ClassedLine) (s : Stretch) → run_in_front b ls ≡ Some s → s.above ≡ []
front-above [] ls s h = let k : record { above = []; lines = []; below = ls } ≡ s = cc in ap (λ (z : Stretch). z.above) (sym k)
front-above (x ∷ b) [] s h = absurd (cc)
front-above (x ∷ b) (l ∷ ls) s h = go (λ rest r. front-above rest ls r) (after_texts (texts_of l.bytes) (x ∷ b)) h
  where
    longer : (rest : List (List ℕ)) (o : Option Stretch) → run_in_front rest ls ≡ o → ((r : Stretch) → run_in_front rest ls ≡ Some r → r.above ≡ []) → option_map (led_by l) o ≡ Some s → s.above ≡ []
    longer rest None i f e = absurd (cc)
    longer rest (Some r) i f e = let k : led_by l r ≡ s = cc in ap (λ (z : Stretch). z.above) (sym k) ∙ f r i

    go : ((rest : List (List ℕ)) (r : Stretch) → run_in_front rest ls ≡ Some r → r.above ≡ []) → (o : Option (List (List ℕ))) → option_and_then (λ rest. option_map (led_by l) (run_in_front rest ls)) o ≡ Some s → s.above ≡ []
    go f None e = absurd (cc)
    go f (Some rest) e = longer rest (run_in_front rest ls) refl (f rest) e

-- ---- one line of it

-- at the end of the lines
pub length-none : (u : List ℕ) → run_length (block_lines u) [] ≡ None
length-none u = ap (λ b. run_length b []) (block-front u).lines_are

length-line : (b : List (List ℕ)) (x : List ℕ) (xs : List (List ℕ)) (l : LocatedLine) (ls : List LocatedLine) → b ≡ x ∷ xs
    → run_length b (l ∷ ls) ≡ option_and_then (λ rest. option_map (λ n. n + 1) (run_length rest ls)) (after_texts (texts_of l.bytes) b)
length-line [] x xs l ls h = absurd (cc)
length-line (y ∷ b) x xs l ls h = refl

-- by what is left of the block after the line
pub length-left : (u bytes : List ℕ) (l : LocatedLine) (ls : List LocatedLine) (o : Option (List (List ℕ))) → o ≡ after_texts (texts_of bytes) (block_lines u) → bytes ≡ l.bytes
    → run_length (block_lines u) (l ∷ ls) ≡ option_and_then (λ rest. option_map (λ n. n + 1) (run_length rest ls)) o
length-left u bytes l ls o h e =
    let f = block-front u in
    let left : o ≡ after_texts (texts_of l.bytes) (block_lines u) = h ∙ ap (λ z. after_texts (texts_of z) (block_lines u)) e in
    length-line (block_lines u) f.first f.rest l ls f.lines_are ∙ ap (option_and_then (λ rest. option_map (λ n. n + 1) (run_length rest ls))) (sym left)

-- ---- how many lines at most

after-fewer : (ts b rest : List (List ℕ)) → after_texts ts b ≡ Some rest → length ts + length rest ≡ length b
after-fewer [] b rest h = let e : b ≡ rest = cc in omega (arith, ap length e)
after-fewer (t ∷ ts) [] rest h = absurd (cc)
after-fewer (t ∷ ts) (x ∷ b) rest h = go (after-fewer ts b rest) (bytes_eq t x) h
  where
    go : (after_texts ts b ≡ Some rest → length ts + length rest ≡ length b) → (q : Bool) → (if q then after_texts ts b else None) ≡ Some rest → suc (length ts) + length rest ≡ suc (length b)
    go ih true e = omega (arith, ih e)
    go ih false e = absurd (cc)

-- a run has no more lines than its block
pub length-most : (b : List (List ℕ)) (ls : List LocatedLine) (n : ℕ) → AreFilled ls → run_length b ls ≡ Some n → n ≤ length b
length-most [] ls n f h = let e : 0 ≡ n = cc in omega (arith, e)
length-most (x ∷ b) [] n f h = absurd (cc)
length-most (x ∷ b) (l ∷ ls) n f h = go (λ rest k e. length-most rest ls k f.1 e) (after_texts (texts_of l.bytes) (x ∷ b)) refl h
  where
    more : (rest : List (List ℕ)) (o : Option ℕ) → after_texts (texts_of l.bytes) (x ∷ b) ≡ Some rest → ((k : ℕ) → o ≡ Some k → k ≤ length rest) → option_map (λ n. n + 1) o ≡ Some n → n ≤ suc (length b)
    more rest None i most e = absurd (cc)
    more rest (Some k) i most e =
        let F = line-front l.bytes f.0 in
        let one : k + 1 ≡ n = cc in
        omega (arith, one, most k refl, after-fewer (texts_of l.bytes) (x ∷ b) rest i, ap length F.texts_are)

    go : ((rest : List (List ℕ)) (k : ℕ) → run_length rest ls ≡ Some k → k ≤ length rest) → (o : Option (List (List ℕ))) → after_texts (texts_of l.bytes) (x ∷ b) ≡ o
        → option_and_then (λ rest. option_map (λ n. n + 1) (run_length rest ls)) o ≡ Some n → n ≤ suc (length b)
    go most None i e = absurd (cc)
    go most (Some rest) i e = more rest (run_length rest ls) i (most rest) e

-- ---- no run

unlike : (x : List ℕ) (b : List (List ℕ)) (l : LocatedLine) (ls : List LocatedLine) → 0 < length l.bytes → says_first (x ∷ b) l ≡ false → run_length (x ∷ b) (l ∷ ls) ≡ None
unlike x b l ls f h =
    let F = line-front l.bytes f in
    let from = λ (o : Option (List (List ℕ))). option_and_then (λ rest. option_map (λ n. n + 1) (run_length rest ls)) o in
    let other : bytes_eq F.first x ≡ false = ap (λ ts. bytes_eq (get_or ts 0 []) x) (sym F.texts_are) ∙ h in
    ap (λ ts. from (after_texts ts (x ∷ b))) F.texts_are ∙ ap (λ q. from (if q then after_texts F.rest b else None)) other

-- a line that does not begin as the block does
pub length-unlike : (u : List ℕ) (l : LocatedLine) (ls : List LocatedLine) → 0 < length l.bytes → says_first (block_lines u) l ≡ false → run_length (block_lines u) (l ∷ ls) ≡ None
length-unlike u l ls f h =
    let B = block-front u in
    ap (λ b. run_length b (l ∷ ls)) B.lines_are ∙ unlike B.first B.rest l ls f (ap (λ b. says_first b l) (sym B.lines_are) ∙ h)

-- ---- lines that are counted

-- the lines that are counted so far, and those of the rest
abbrev pub counted : ℕ → Option ℕ → Option ℕ
counted c o = option_map (λ n. c + n) o

pub counted-none : (o : Option ℕ) → counted 0 o ≡ o
counted-none None = refl
counted-none (Some n) = let e : 0 + n ≡ n = omega arith in ap (λ (n : ℕ). Some n) e

pub counted-more : (c : ℕ) (o : Option ℕ) → counted c (option_map (λ n. n + 1) o) ≡ counted (c + 1) o
counted-more c None = refl
counted-more c (Some n) = let e : c + (n + 1) ≡ c + 1 + n = omega arith in ap (λ (n : ℕ). Some n) e
