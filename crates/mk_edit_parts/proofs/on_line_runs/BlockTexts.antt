-- The lines of a block, and the physical lines that are compared with them.
use Rattle.std.proofs.Common.{◌≡◌, refl, sym, ap, ◌∙◌, subst, arith, ℕ, zero, suc, ◌+◌, ◌-◌, ◌<◌, ◌≤◌, ◌==◌, ◌||◌, if◌then◌else◌, Bool, true, false, List, [], ◌∷◌, ◌++◌, append_assoc, append-nil, length, length-append, take, drop, get_or, reverse, eq-eqb, ne_eqb, eqb-true, Some, None}
use Rattle.std.specs.Prelude.{◌≢◌, cond, count_by}
use Rattle.std.specs.Str.{bytes_eq}
use Rattle.std.proofs.Math.Seq.{take-length, drop-length}
use Rattle.std.proofs.lemmas.List.{take-append-drop, take_more, reverse-append}
use Rattle.std.proofs.lemmas.List.Folds.{list_any-append}
use Rattle.std.proofs.lemmas.List.Recursion.{is_count_by}
use Rattle.std.proofs.lemmas.Slice.Eq.{bytes_eq-Decides}
use Rattle.memchr.specs.Find.{IsFirstByte, is_byte}
use Rattle.mk_lines.specs.Lists.{onto_first}
use Rattle.mk_lines.specs.Bytes.{ByteKind, LineFeed, CarriageReturn, Backslash, Blank, Ordinary, byte_kind}
use Rattle.mk_lines.specs.PhysicalLines.{physical_lines, drop_carriage_return, drop_carriage_return_at, drop_line_end, drop_line_end_at, without_line_end}
use Rattle.mk_lines.proofs.on_lists.BoolLemmas.{or-left_false, or-right_false}
use Rattle.mk_lines.proofs.on_lists.ByteLemmas.{line_feed-byte}
use Rattle.mk_lines.proofs.on_lines.LineCut.{before_lines-ordinary, onto_first-twice}
use Rattle.mk_edit_language.specs.LineRuns.{after_texts, block_lines}
use Rattle.mk_edit_parts.specs.LineRunWalks.{has_line_feed}

-- ---- line feeds

not-feed : (b : ℕ) → (b == 10) ≡ false → byte_kind b ≡ LineFeed → ⊥
not-feed b h e = let is : (b == 10) ≡ true = eq-eqb b 10 (line_feed-byte b e) in cc

first-none : (b : ℕ) (t : List ℕ) → has_line_feed (b ∷ t) ≡ false → (b == 10) ≡ false
first-none b t h = or-left_false (b == 10) (has_line_feed t) h

rest-none : (b : ℕ) (t : List ℕ) → has_line_feed (b ∷ t) ≡ false → has_line_feed t ≡ false
rest-none b t h = or-right_false (b == 10) (has_line_feed t) h

-- a front of a text in which no line feed was found has none
front-none : (t : List ℕ) (k : ℕ) → ((j : ℕ) → j < k → (get_or t j 0 == 10) ≡ true → ⊥) → has_line_feed (take k t) ≡ false
front-none [] zero h = refl
front-none [] (suc k) h = refl
front-none (b ∷ t) zero h = refl
front-none (b ∷ t) (suc k) h = go (b == 10) refl (front-none t k (λ j below. h (suc j) (omega arith)))
  where
    go : (q : Bool) → (b == 10) ≡ q → has_line_feed (take k t) ≡ false → (q || has_line_feed (take k t)) ≡ false
    go true e i = absurd (h 0 (omega arith) e)
    go false e i = i

-- ---- the first physical line

physical-front : (p t : List ℕ) → has_line_feed p ≡ false → physical_lines (p ++ 10 ∷ t) ≡ (p ++ 10 ∷ []) ∷ physical_lines t
physical-front [] t h = refl
physical-front (b ∷ p) t h =
    before_lines-ordinary (byte_kind b) b (physical_lines (p ++ 10 ∷ t)) (not-feed b (first-none b p h)) ∙ ap (onto_first (b ∷ [])) (physical-front p t (rest-none b p h))

physical-alone : (b : ℕ) (p : List ℕ) → has_line_feed (b ∷ p) ≡ false → physical_lines (b ∷ p) ≡ (b ∷ p) ∷ []
physical-alone b [] h = before_lines-ordinary (byte_kind b) b [] (not-feed b (first-none b [] h))
physical-alone b (c ∷ p) h =
    before_lines-ordinary (byte_kind b) b (physical_lines (c ∷ p)) (not-feed b (first-none b (c ∷ p) h)) ∙ ap (onto_first (b ∷ [])) (physical-alone c p (rest-none b (c ∷ p) h))

-- the first line has this length, and no line feed but perhaps its last byte
pub record IsFirstOf (t : List ℕ) (n : ℕ) : Type 0 where
  pub lines : physical_lines t ≡ take n t ∷ physical_lines (drop n t)
  pub one_line : has_line_feed (take (n - 1) t) ≡ false

-- by what a search for the line feed tells
pub first-found : (t : List ℕ) (feed : ℕ) → IsFirstByte (is_byte 10) t (Some feed) → IsFirstOf t (feed + 1)
first-found t feed (first, passes) =
    let p = take feed t in
    let below = drop (feed + 1) t in
    let ten : get_or t feed 0 ≡ 10 = eqb-true (get_or t feed 0) 10 passes in
    let none : has_line_feed p ≡ false = front-none t feed (λ j less is. first.before j (omega arith) less is) in
    let line : take (feed + 1) t ≡ p ++ 10 ∷ [] = take_more t feed 0 first.high ∙ ap (λ b. p ++ b ∷ []) ten in
    let whole : t ≡ p ++ 10 ∷ below = sym (take-append-drop (feed + 1) t) ∙ (ap (λ l. l ++ below) line ∙ append_assoc p (10 ∷ []) below) in
    let less : feed ≡ feed + 1 - 1 = omega arith in
    record {
      lines = ap physical_lines whole ∙ (physical-front p below none ∙ ap (λ l. l ∷ physical_lines below) (sym line));
      one_line = subst (λ n. has_line_feed (take n t) ≡ false) less none;
    }

pub first-not_found : (t : List ℕ) → 0 < length t → IsFirstByte (is_byte 10) t None → IsFirstOf t (length t)
first-not_found [] some h = absurd (omega arith)
first-not_found (b ∷ t) some h =
    let n = length (b ∷ t) in
    let none : has_line_feed (b ∷ t) ≡ false = subst (λ z. has_line_feed z ≡ false) (take-length (b ∷ t)) (front-none (b ∷ t) n (λ j less is. h j (omega arith) less is)) in
    record {
      lines =
          physical-alone b t none
          ∙ (ap (λ l. l ∷ []) (sym (take-length (b ∷ t))) ∙ ap (λ z. take n (b ∷ t) ∷ physical_lines z) (sym (drop-length (b ∷ t))));
      one_line = front-none (b ∷ t) (n - 1) (λ j less is. h j (omega arith) (omega arith) is);
    }

-- ---- its text

feed-reversed : (t : List ℕ) → has_line_feed t ≡ false → has_line_feed (reverse t) ≡ false
feed-reversed [] h = refl
feed-reversed (b ∷ t) h =
    ap has_line_feed (reverse-append (b ∷ []) t)
    ∙ (list_any-append (λ x. x == 10) (reverse t) (b ∷ [])
    ∙ (ap (λ q. q || ((b == 10) || false)) (feed-reversed t (rest-none b t h)) ∙ ap (λ q. q || false) (first-none b t h)))

carriage_return-none : (r : List ℕ) → has_line_feed r ≡ false → has_line_feed (drop_carriage_return r) ≡ false
carriage_return-none [] h = refl
carriage_return-none (b ∷ r) h = go (byte_kind b)
  where
    go : (k : ByteKind) → has_line_feed (drop_carriage_return_at k b r) ≡ false
    go CarriageReturn = rest-none b r h
    go LineFeed = h
    go Backslash = h
    go Blank = h
    go Ordinary = h

line_end-none : (b : ℕ) (r : List ℕ) → has_line_feed r ≡ false → has_line_feed (drop_line_end (b ∷ r)) ≡ false
line_end-none b r h = go (byte_kind b) refl
  where
    kept : (byte_kind b ≡ LineFeed → ⊥) → has_line_feed (b ∷ r) ≡ false
    kept n = ap (λ q. q || has_line_feed r) (ne_eqb b 10 (λ e. n (ap byte_kind e))) ∙ h

    go : (k : ByteKind) → byte_kind b ≡ k → has_line_feed (drop_line_end_at k b r) ≡ false
    go LineFeed e = carriage_return-none r h
    go CarriageReturn e = kept (λ i. let q : CarriageReturn ≡ LineFeed = sym e ∙ i in cc)
    go Backslash e = kept (λ i. let q : Backslash ≡ LineFeed = sym e ∙ i in cc)
    go Blank e = kept (λ i. let q : Blank ≡ LineFeed = sym e ∙ i in cc)
    go Ordinary e = kept (λ i. let q : Ordinary ≡ LineFeed = sym e ∙ i in cc)

pub text-none : (t : List ℕ) (n : ℕ) → 0 < n → n ≤ length t → has_line_feed (take (n - 1) t) ≡ false → has_line_feed (without_line_end (take n t)) ≡ false
text-none t n some within h =
    let k = n - 1 in
    let p = take k t in
    let last = get_or t k 0 in
    let more : n ≡ k + 1 = omega arith in
    let less : k < length t = omega arith in
    let line : take n t ≡ p ++ last ∷ [] = ap (λ m. take m t) more ∙ take_more t k 0 less in
    let backwards : reverse (take n t) ≡ last ∷ reverse p = ap reverse line ∙ reverse-append p (last ∷ []) in
    ap (λ r. has_line_feed (reverse (drop_line_end r))) backwards ∙ feed-reversed (drop_line_end (last ∷ reverse p)) (line_end-none last (reverse p) (feed-reversed p h))

-- ---- the lines of a block

block-feed : (b : ℕ) (u : List ℕ) → (b == 10) ≡ true → block_lines (b ∷ u) ≡ [] ∷ block_lines u
block-feed b u h = rw h refl

block-other : (b : ℕ) (u : List ℕ) → (b == 10) ≡ false → block_lines (b ∷ u) ≡ onto_first (b ∷ []) (block_lines u)
block-other b u h = rw h refl

-- the first line of a block, with which the block begins, and the others
pub record BlockFront (u : List ℕ) : Type 0 where
  pub first : List ℕ
  pub rest : List (List ℕ)
  pub lines_are : block_lines u ≡ first ∷ rest
  after : List ℕ
  begins : u ≡ first ++ after

pub block-front : (u : List ℕ) → BlockFront u
block-front [] = record { first = []; rest = []; lines_are = refl; after = []; begins = refl }
block-front (b ∷ u) = go (b == 10) refl (block-front u)
  where
    go : (q : Bool) → (b == 10) ≡ q → BlockFront u → BlockFront (b ∷ u)
    go true e f = record { first = []; rest = block_lines u; lines_are = block-feed b u e; after = b ∷ u; begins = refl }
    go false e f = record {
      first = b ∷ f.first;
      rest = f.rest;
      lines_are = block-other b u e ∙ ap (onto_first (b ∷ [])) f.lines_are;
      after = f.after;
      begins = ap (λ z. b ∷ z) f.begins;
    }

block-behind : (t u : List ℕ) → has_line_feed t ≡ false → block_lines (t ++ u) ≡ onto_first t (block_lines u)
block-behind [] u h = let f = block-front u in f.lines_are ∙ sym (ap (onto_first []) f.lines_are)
block-behind (b ∷ t) u h =
    block-other b (t ++ u) (first-none b t h) ∙ (ap (onto_first (b ∷ [])) (block-behind t u (rest-none b t h)) ∙ onto_first-twice (b ∷ []) t (block_lines u))

-- how many lines a block has
some-lines : (u : List ℕ) → 0 < length (block_lines u)
some-lines u = let f = block-front u in omega (arith, ap length f.lines_are)

onto-length : (x : ℕ) (ts : List (List ℕ)) → 0 < length ts → length (onto_first (x ∷ []) ts) ≡ length ts
onto-length x [] h = absurd (omega (arith, h))
onto-length x (t ∷ ts) h = refl

feeds-counted : (x : ℕ) (u : List ℕ) → length (block_lines (x ∷ u)) - 1 ≡ cond (x == 10) (1 + (length (block_lines u) - 1)) (length (block_lines u) - 1)
feeds-counted x u = go (x == 10) refl
  where
    go : (q : Bool) → (x == 10) ≡ q → length (block_lines (x ∷ u)) - 1 ≡ cond q (1 + (length (block_lines u) - 1)) (length (block_lines u) - 1)
    go true e = omega (arith, ap length (block-feed x u e), some-lines u)
    go false e = ap (λ n. n - 1) (ap length (block-other x u e) ∙ onto-length x (block_lines u) (some-lines u))

pub lines-counted : (u : List ℕ) → length (block_lines u) ≡ count_by (λ b. b == 10) u + 1
lines-counted u =
    let counted : length (block_lines u) - 1 ≡ count_by (λ b. b == 10) u = is_count_by (λ t. length (block_lines t) - 1) (λ b. b == 10) refl feeds-counted u in
    omega (arith, counted, some-lines u)

-- a text without a line feed is a block of one line
pub block-alone : (t : List ℕ) → has_line_feed t ≡ false → block_lines t ≡ t ∷ []
block-alone t h = ap block_lines (sym (append-nil t)) ∙ (block-behind t [] h ∙ ap (λ z. z ∷ []) (append-nil t))

-- the first line of a block, by what a search for the line feed tells
pub record IsFront (u x : List ℕ) : Type 0 where
  pub first : x ≡ get_or (block_lines u) 0 []
  pub one_line : has_line_feed x ≡ false

pub front-found : (u : List ℕ) (feed : ℕ) → IsFirstByte (is_byte 10) u (Some feed) → IsFront u (take feed u)
front-found u feed (first, passes) =
    let p = take feed u in
    let below = drop (feed + 1) u in
    let ten : get_or u feed 0 ≡ 10 = eqb-true (get_or u feed 0) 10 passes in
    let none : has_line_feed p ≡ false = front-none u feed (λ j less is. first.before j (omega arith) less is) in
    let line : take (feed + 1) u ≡ p ++ 10 ∷ [] = take_more u feed 0 first.high ∙ ap (λ b. p ++ b ∷ []) ten in
    let whole : u ≡ p ++ 10 ∷ below = sym (take-append-drop (feed + 1) u) ∙ (ap (λ l. l ++ below) line ∙ append_assoc p (10 ∷ []) below) in
    let lines : block_lines u ≡ (p ++ []) ∷ block_lines below = ap block_lines whole ∙ block-behind p (10 ∷ below) none in
    record { first = sym (append-nil p) ∙ ap (λ ts. get_or ts 0 []) (sym lines); one_line = none }

pub front-not_found : (u : List ℕ) → IsFirstByte (is_byte 10) u None → IsFront u u
front-not_found u h =
    let none : has_line_feed u ≡ false = subst (λ z. has_line_feed z ≡ false) (take-length u) (front-none u (length u) (λ j less is. h j (omega arith) less is)) in
    record { first = ap (λ ts. get_or ts 0 []) (sym (block-alone u none)); one_line = none }

-- a block is one line, or a line and those after its line feed
pub data FrontCut (u : List ℕ) : Type 0 where
  Alone : block_lines u ≡ u ∷ [] → FrontCut u
  More : (front rest : List ℕ) → u ≡ front ++ 10 ∷ rest → block_lines u ≡ front ∷ block_lines rest → FrontCut u

pub front-cut : (u : List ℕ) → FrontCut u
front-cut [] = Alone refl
front-cut (b ∷ u) = go (b == 10) refl (front-cut u)
  where
    go : (q : Bool) → (b == 10) ≡ q → FrontCut u → FrontCut (b ∷ u)
    go true e f = More [] u (ap (λ z. z ∷ u) (eqb-true b 10 e)) (block-feed b u e)
    go false e (Alone lines) = Alone (block-other b u e ∙ ap (onto_first (b ∷ [])) lines)
    go false e (More front rest i lines) = More (b ∷ front) rest (ap (λ z. b ∷ z) i) (block-other b u e ∙ ap (onto_first (b ∷ [])) lines)

-- ---- what is left after one text

after-same : (t u x : List ℕ) (xs : List (List ℕ)) → block_lines u ≡ x ∷ xs → t ≡ x → after_texts (t ∷ []) (block_lines u) ≡ Some xs
after-same t u x xs h e = ap (after_texts (t ∷ [])) h ∙ ap (λ q. if q then Some xs else None) ((bytes_eq-Decides t x).1 e)

after-other : (t u x : List ℕ) (xs : List (List ℕ)) → block_lines u ≡ x ∷ xs → (t ≡ x → ⊥) → after_texts (t ∷ []) (block_lines u) ≡ None
after-other t u x xs h n = ap (after_texts (t ∷ [])) h ∙ go (bytes_eq t x) refl
  where
    go : (q : Bool) → bytes_eq t x ≡ q → (if q then Some xs else None) ≡ None
    go true e = absurd (n ((bytes_eq-Decides t x).0 e))
    go false e = refl

-- the block begins with something else, or with the text and what does not end its line; it is the text; or it goes on below it
pub left-none : (t u : List ℕ) → ((rest : List ℕ) → u ≢ t ++ rest) → None ≡ after_texts (t ∷ []) (block_lines u)
left-none t u h = let f = block-front u in sym (after-other t u f.first f.rest f.lines_are (λ e. h f.after (f.begins ∙ ap (λ z. z ++ f.after) (sym e))))

pub left-longer : (t u rest : List ℕ) (b : ℕ) (m : List ℕ) → has_line_feed t ≡ false → u ≡ t ++ rest → rest ≡ b ∷ m → b ≢ 10 → None ≡ after_texts (t ∷ []) (block_lines u)
left-longer t u rest b m n h e o =
    let f = block-front m in
    let x = t ++ b ∷ f.first in
    let lines : block_lines u ≡ x ∷ f.rest =
    ap block_lines (h ∙ ap (λ z. t ++ z) e) ∙ (block-behind t (b ∷ m) n ∙ ap (onto_first t) (block-other b m (ne_eqb b 10 o) ∙ ap (onto_first (b ∷ [])) f.lines_are)) in
    sym (after-other t u x f.rest lines (λ i. omega (arith, ap length i, length-append t (b ∷ f.first))))

pub left-nothing : (t u rest : List ℕ) → has_line_feed t ≡ false → u ≡ t ++ rest → length rest ≡ 0 → Some [] ≡ after_texts (t ∷ []) (block_lines u)
left-nothing t u [] n h e =
    let lines : block_lines u ≡ (t ++ []) ∷ [] = ap block_lines h ∙ block-behind t [] n in
    sym (after-same t u (t ++ []) [] lines (sym (append-nil t)))
left-nothing t u (b ∷ rest) n h e = absurd (omega arith)

pub left-lines : (t u rest : List ℕ) (b : ℕ) (m : List ℕ) → has_line_feed t ≡ false → u ≡ t ++ rest → rest ≡ b ∷ m → b ≡ 10 → Some (block_lines m) ≡ after_texts (t ∷ []) (block_lines u)
left-lines t u rest b m n h e o =
    let lines : block_lines u ≡ (t ++ []) ∷ block_lines m = ap block_lines (h ∙ ap (λ z. t ++ z) (e ∙ ap (λ x. x ∷ m) o)) ∙ block-behind t (10 ∷ m) n in
    sym (after-same t u (t ++ []) (block_lines m) lines (sym (append-nil t)))

-- ---- one text after the other
