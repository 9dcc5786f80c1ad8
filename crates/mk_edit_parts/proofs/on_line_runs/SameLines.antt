-- Lines that are the same: the first ones of a block, and lines of a document that say them.
use Rattle.std.proofs.Common.{◌≡◌, refl, sym, ap, ◌∙◌, subst, arith, ℕ, zero, suc, ◌+◌, ◌-◌, ◌*◌, ◌<◌, ◌≤◌, Bool, true, false, if◌then◌else◌, List, [], ◌∷◌, ◌++◌, length, length-append, drop, append_assoc, Option, Some, None, option_map}
use Rattle.std.specs.Prelude.{IfSome, option_and_then}
use Rattle.std.specs.Str.{bytes_eq}
use Rattle.std.proofs.Math.Nat.{suc-mul}
use Rattle.std.proofs.Math.Seq.{drop-append_seam}
use Rattle.std.proofs.lemmas.List.{drop-drop}
use Rattle.std.proofs.lemmas.Slice.Eq.{bytes_eq-Decides}
use Rattle.mk_tree.specs.LocatedLines.{LocatedLine}
use Rattle.mk_edit_language.specs.LineRuns.{after_texts, block_lines, texts_of}
use Rattle.mk_edit_parts.specs.LineRunWalks.{BeginSame, SayAlone, has_line_feed, run_length}
use Rattle.mk_edit_parts.proofs.on_line_runs.BlockTexts.{FrontCut, Alone, More, block-alone, front-cut}
use Rattle.mk_edit_parts.proofs.on_line_runs.RunLengths.{counted, counted-none}

-- ---- the first lines of a block

drop-more : {A : Type 0} (n : ℕ) (b rest : List A) (t : A) → drop n b ≡ t ∷ rest → drop (suc n) b ≡ rest
drop-more zero [] rest t h = absurd (cc)
drop-more zero (x ∷ b) rest t h = cc
drop-more (suc n) [] rest t h = absurd (cc)
drop-more (suc n) (x ∷ b) rest t h = drop-more n b rest t h

begin-suc : (x : List ℕ) (n : ℕ) (b rest : List (List ℕ)) → BeginSame x n b → drop n b ≡ x ∷ rest → BeginSame x (suc n) b
begin-suc x zero [] rest h d = absurd (cc)
begin-suc x zero (t ∷ b) rest h d = let k : t ≡ x = cc in (k, tt)
begin-suc x (suc n) [] rest h d = h
begin-suc x (suc n) (t ∷ b) rest h d = (h.0, begin-suc x n b rest h.1 d)

-- a block that begins with a text, by what is left after it
same-after : (x : List ℕ) (b rest : List (List ℕ)) → Some rest ≡ after_texts (x ∷ []) b → b ≡ x ∷ rest
same-after x [] rest h = absurd (cc)
same-after x (t ∷ b) rest h = go (bytes_eq x t) refl h
  where
    go : (q : Bool) → bytes_eq x t ≡ q → Some rest ≡ (if q then Some b else None) → t ∷ b ≡ x ∷ rest
    go true e i = let same : x ≡ t = (bytes_eq-Decides x t).0 e in let left : rest ≡ b = cc in ap (λ z. z ∷ b) (sym same) ∙ ap (λ z. x ∷ z) (sym left)
    go false e i = absurd (cc)

-- one line more is the same
pub record IsOneMore (x : List ℕ) (n : ℕ) (b rest : List (List ℕ)) : Type 0 where
  pub same : BeginSame x (n + 1) b
  pub left : drop (n + 1) b ≡ rest

pub begin-more : (x : List ℕ) (n : ℕ) (b now rest : List (List ℕ)) → BeginSame x n b → now ≡ drop n b → Some rest ≡ after_texts (x ∷ []) now → IsOneMore x n b rest
begin-more x n b now rest h d e =
    let here : drop n b ≡ x ∷ rest = sym d ∙ same-after x now rest e in
    let k : suc n ≡ n + 1 = omega arith in
    record { same = subst (λ m. BeginSame x m b) k (begin-suc x n b rest h here); left = ap (λ m. drop m b) (sym k) ∙ drop-more n b rest x here }

pub begin-fewer : (x : List ℕ) (m n : ℕ) (b : List (List ℕ)) → m ≤ n → BeginSame x n b → BeginSame x m b
begin-fewer x zero n b l h = tt
begin-fewer x (suc m) zero b l h = absurd (omega (arith, l))
begin-fewer x (suc m) (suc n) [] l h = h
begin-fewer x (suc m) (suc n) (t ∷ b) l h = (h.0, begin-fewer x m n b (omega (arith, l)) h.1)

-- ---- the bytes of these lines

-- What is left of a block after so many lines that are this text stands at this offset, or one further
-- than the block is long if nothing is left.
pub record IsCut (u x : List ℕ) (n : ℕ) : Type 0 where
  pub within : n * (length x + 1) ≤ length u + 1
  pub left : n * (length x + 1) ≤ length u → block_lines (drop (n * (length x + 1)) u) ≡ drop n (block_lines u)
  pub none : length u < n * (length x + 1) → drop n (block_lines u) ≡ []

cut-none : (u x : List ℕ) → IsCut u x 0
cut-none u x =
    let none : 0 * (length x + 1) ≡ 0 = omega arith in
    record { within = omega arith; left = λ h. ap (λ n. block_lines (drop n u)) none; none = λ h. absurd (omega (arith, h, none)) }

pub same-cut : (n : ℕ) (u x : List ℕ) → BeginSame x n (block_lines u) → IsCut u x n
same-cut zero u x h = cut-none u x
same-cut (suc n) u x h = go (λ rest k. same-cut n rest x k) (front-cut u)
  where
    alone : (n : ℕ) → u ≡ x → BeginSame x n [] → block_lines u ≡ u ∷ [] → IsCut u x (suc n)
    alone zero e k lines = record {
      within = omega (arith, ap length e);
      left = λ l. absurd (omega (arith, l, ap length e));
      none = λ l. ap (drop 1) lines;
    }
    alone (suc m) e k lines = absurd k

    more : (front rest : List ℕ) → front ≡ x → u ≡ front ++ 10 ∷ rest → block_lines u ≡ front ∷ block_lines rest → IsCut rest x n → IsCut u x (suc n)
    more front rest f e lines C =
        let step : suc n * (length x + 1) ≡ length x + 1 + n * (length x + 1) = omega (arith, suc-mul n (length x + 1)) in
        let size : length u ≡ length x + 1 + length rest = omega (arith, ap length e, length-append front (10 ∷ rest), ap length f) in
        let width : length (front ++ 10 ∷ []) ≡ length x + 1 = omega (arith, length-append front (10 ∷ []), ap length f) in
        let below : drop (length x + 1) u ≡ rest =
        ap (drop (length x + 1)) (e ∙ sym (append_assoc front (10 ∷ []) rest)) ∙ (ap (λ m. drop m ((front ++ 10 ∷ []) ++ rest)) (sym width) ∙ drop-append_seam (front ++ 10 ∷ []) rest) in
        let cut : drop (suc n * (length x + 1)) u ≡ drop (n * (length x + 1)) rest =
        ap (λ m. drop m u) step ∙ (sym (drop-drop (n * (length x + 1)) (length x + 1) u) ∙ ap (drop (n * (length x + 1))) below) in
        record {
          within = omega (arith, C.within, size, step);
          left = λ l. ap block_lines cut ∙ (C.left (omega (arith, l, size, step)) ∙ sym (ap (drop (suc n)) lines));
          none = λ l. ap (drop (suc n)) lines ∙ C.none (omega (arith, l, size, step));
        }

    go : ((rest : List ℕ) → BeginSame x n (block_lines rest) → IsCut rest x n) → FrontCut u → IsCut u x (suc n)
    go ih (Alone lines) = let same = subst (BeginSame x (suc n)) lines h in alone n same.0 same.1 lines
    go ih (More front rest e lines) = let same = subst (BeginSame x (suc n)) lines h in more front rest same.0 e lines (ih rest same.1)

-- ---- lines of a document

alone-suc : (x : List ℕ) (n : ℕ) (ls left : List LocatedLine) (l : LocatedLine) → SayAlone x n ls → drop n ls ≡ l ∷ left → texts_of l.bytes ≡ x ∷ [] → SayAlone x (suc n) ls
alone-suc x zero [] left l h d e = absurd (cc)
alone-suc x zero (k ∷ ls) left l h d e = let same : k ≡ l = cc in (ap (λ (z : LocatedLine). texts_of z.bytes) same ∙ e, tt)
alone-suc x (suc n) [] left l h d e = h
alone-suc x (suc n) (k ∷ ls) left l h d e = (h.0, alone-suc x n ls left l h.1 d e)

-- the lines that are counted so far, and those ahead
pub record IsCounted (x : List ℕ) (n : ℕ) (ls ahead : List LocatedLine) : Type 0 where
  pub alone : SayAlone x n ls
  pub left : drop n ls ≡ ahead
  pub number : n + length ahead ≡ length ls

pub counted-start : (x : List ℕ) (ls ahead : List LocatedLine) → ahead ≡ ls → IsCounted x 0 ls ahead
counted-start x ls ahead e = record { alone = tt; left = sym e; number = omega (arith, ap length e) }

pub counted-on : (x : List ℕ) (n : ℕ) (ls ahead left : List LocatedLine) (l : LocatedLine) → IsCounted x n ls ahead → ahead ≡ l ∷ left → texts_of l.bytes ≡ x ∷ [] → IsCounted x (n + 1) ls left
counted-on x n ls ahead left l C e t =
    let here : drop n ls ≡ l ∷ left = C.left ∙ e in
    let k : suc n ≡ n + 1 = omega arith in
    record {
      alone = subst (λ m. SayAlone x m ls) k (alone-suc x n ls left l C.alone here t);
      left = ap (λ m. drop m ls) (sym k) ∙ drop-more n ls left l here;
      number = omega (arith, C.number, ap length e);
    }

pub alone-few : (x : List ℕ) (n : ℕ) (ls : List LocatedLine) → SayAlone x n ls → n ≤ length ls
alone-few x zero ls h = omega arith
alone-few x (suc n) [] h = absurd h
alone-few x (suc n) (l ∷ ls) h = omega (arith, alone-few x n ls h.1)

pub alone-fewer : (x : List ℕ) (m n : ℕ) (ls : List LocatedLine) → m ≤ n → SayAlone x n ls → SayAlone x m ls
alone-fewer x zero n ls l h = tt
alone-fewer x (suc m) zero ls l h = absurd (omega (arith, l))
alone-fewer x (suc m) (suc n) [] l h = h
alone-fewer x (suc m) (suc n) (k ∷ ls) l h = (h.0, alone-fewer x m n ls (omega (arith, l)) h.1)

-- one line down
pub alone-below : (x : List ℕ) (n : ℕ) (ls left : List LocatedLine) (l : LocatedLine) → ls ≡ l ∷ left → SayAlone x n ls → SayAlone x (n - 1) left
alone-below x n ls left l e h = go n (subst (SayAlone x n) e h)
  where
    go : (n : ℕ) → SayAlone x n (l ∷ left) → SayAlone x (n - 1) left
    go zero k = let z : 0 ≡ 0 - 1 = omega arith in subst (λ m. SayAlone x m left) z tt
    go (suc n) k = let z : n ≡ suc n - 1 = omega arith in subst (λ m. SayAlone x m left) z k.1

-- a line that says a block of one line, says this line alone
pub says-alone : (ts : List (List ℕ)) (x : List ℕ) → has_line_feed x ≡ false → Some [] ≡ after_texts ts (block_lines x) → ts ≡ x ∷ []
says-alone ts x one h = go ts (h ∙ ap (after_texts ts) (block-alone x one))
  where
    last : (ts : List (List ℕ)) → Some [] ≡ after_texts ts [] → ts ≡ []
    last [] e = refl
    last (t ∷ ts) e = absurd (cc)

    go : (ts : List (List ℕ)) → Some [] ≡ after_texts ts (x ∷ []) → ts ≡ x ∷ []
    go [] e = absurd (cc)
    go (t ∷ ts) e = first (bytes_eq t x) refl e
      where
        first : (q : Bool) → bytes_eq t x ≡ q → Some [] ≡ (if q then after_texts ts [] else None) → t ∷ ts ≡ x ∷ []
        first true i k = ap (λ z. z ∷ ts) ((bytes_eq-Decides t x).0 i) ∙ ap (λ z. x ∷ z) (last ts k)
        first false i k = absurd (cc)

-- ---- the run past them

counted-suc : (n : ℕ) (o : Option ℕ) → option_map (λ m. m + 1) (counted n o) ≡ counted (suc n) o
counted-suc n None = refl
counted-suc n (Some m) = let e : n + m + 1 ≡ suc n + m = omega arith in ap (λ (k : ℕ). Some k) e

length-same : (x : List ℕ) (n : ℕ) (b : List (List ℕ)) (ls : List LocatedLine) → BeginSame x n b → SayAlone x n ls → run_length b ls ≡ counted n (run_length (drop n b) (drop n ls))
length-same x zero b ls h k = sym (counted-none (run_length b ls))
length-same x (suc n) [] ls h k = absurd h
length-same x (suc n) (t ∷ b) [] h k = absurd k
length-same x (suc n) (t ∷ b) (l ∷ ls) h k =
    let from = λ (o : Option (List (List ℕ))). option_and_then (λ rest. option_map (λ m. m + 1) (run_length rest ls)) o in
    let same : bytes_eq x t ≡ true = (bytes_eq-Decides x t).1 (sym h.0) in
    ap (λ ts. from (after_texts ts (t ∷ b))) k.0
    ∙ (ap (λ q. from (if q then Some b else None)) same
    ∙ (ap (option_map (λ m. m + 1)) (length-same x n b ls h.1 k.1) ∙ counted-suc n (run_length (drop n b) (drop n ls))))

pub within-less : (o : Option ℕ) (at n : ℕ) → IfSome o (λ k. at + 1 + k ≤ n + 1) → IfSome o (λ k. at + k ≤ n)
within-less None at n h = tt
within-less (Some k) at n h = omega (arith, h)

-- the run at an index, by what is left of the block and of the lines
pub length-left_over : (x : List ℕ) (n at : ℕ) (b : List (List ℕ)) (d left : List LocatedLine) (l : LocatedLine) (o : Option ℕ) → drop at d ≡ l ∷ left → BeginSame x n b → SayAlone x n (drop at d) → o ≡ run_length (drop n b) (drop (at + n) d)
    → counted n o ≡ run_length b (l ∷ left)
length-left_over x n at b d left l o here h k e =
    ap (counted n) (e ∙ ap (run_length (drop n b)) (sym (drop-drop n at d))) ∙ (sym (length-same x n b (drop at d) h k) ∙ ap (run_length b) here)
