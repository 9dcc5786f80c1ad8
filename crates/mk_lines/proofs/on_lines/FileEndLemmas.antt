-- The line end of a file: it stands where the first line feed is, so the first logical line tells it.
use Rattle.std.proofs.Common.{◌≡◌, refl, sym, ap, ◌∙◌, subst, ℕ, ◌+◌, ◌<◌, List, [], ◌∷◌, ◌++◌, Bool, true, false, append_assoc, length, get_or, take, drop, reverse, arith, inl, inr, eq-eqb}
use Rattle.std.specs.Prelude.{◌⊎◌, Some}
use Rattle.std.specs.Prelude as std
use Rattle.std.proofs.lemmas.Bool.{eqb-true}
use Rattle.std.proofs.lemmas.List.{reverse-append, take-append-drop, take_more, append-nil}
use Rattle.std.proofs.Math.Seq.{take-length}
use Rattle.memchr.specs.Find.{IsFirstByte, is_byte}
use Rattle.mk_lines.specs.Bytes.{ByteKind, LineFeed, CarriageReturn, Backslash, Blank, Ordinary, byte_kind}
use Rattle.mk_lines.specs.Lists.{onto_first}
use Rattle.mk_lines.specs.PhysicalLines.{physical_lines, before_lines, line_end, line_end_at, line_end_by, line_end_backwards, is_carriage_return_first, line_end_or_lf, first_line_end, file_line_end}
use Rattle.mk_lines.specs.LogicalLines.{logical_lines, before_group, is_continued}
use Rattle.mk_lines.proofs.on_lines.LineCut.{NoLineFeed, logical_lines-line, logical_lines-last, before_lines-ordinary, NoLineFeed-append}
use Rattle.mk_lines.specs.declared.ends.End.TheVariants as end
use Rattle.mk_lines.proofs.SplitLemmas.{no-feed}

-- ---- the first physical line

-- the first physical line goes up to the first line feed
first-physical : (p : List ℕ) (b : ℕ) (t : List ℕ) → NoLineFeed p → byte_kind b ≡ LineFeed → physical_lines (p ++ b ∷ t) ≡ (p ++ b ∷ []) ∷ physical_lines t
first-physical [] b t h e = ap (λ k. before_lines k b (physical_lines t)) e
first-physical (c ∷ p) b t h e =
    before_lines-ordinary (byte_kind c) c (physical_lines (p ++ b ∷ t)) h.0 ∙ ap (onto_first (c ∷ [])) (first-physical p b t h.1 e)

-- the line end of the file is that of its first physical line
file_line_end-line : (p : List ℕ) (b : ℕ) (t : List ℕ) → NoLineFeed p → byte_kind b ≡ LineFeed → file_line_end (p ++ b ∷ t) ≡ line_end (p ++ b ∷ [])
file_line_end-line p b t h e =
    let end : line_end (p ++ b ∷ []) ≡ line_end_by (is_carriage_return_first (reverse p)) =
    ap line_end_backwards (reverse-append p (b ∷ [])) ∙ ap (λ k. line_end_at k (reverse p)) e in
    ap first_line_end (first-physical p b t h e) ∙ (ap line_end_or_lf end ∙ (some (is_carriage_return_first (reverse p)) ∙ sym end))
  where
    some : (c : Bool) → line_end_or_lf (line_end_by c) ≡ line_end_by c
    some true = refl
    some false = refl

-- ---- a text without line feed

none-reverse : (t : List ℕ) → NoLineFeed t → NoLineFeed (reverse t)
none-reverse [] h = tt
none-reverse (b ∷ t) h = subst NoLineFeed (sym (reverse-append (b ∷ []) t)) (NoLineFeed-append (reverse t) (b ∷ []) (none-reverse t h.1) (h.0, tt))

no-end : (r : List ℕ) → NoLineFeed r → line_end_backwards r ≡ end.None
no-end [] h = refl
no-end (b ∷ r) h = go (byte_kind b) h.0
  where
    go : (k : ByteKind) → (k ≡ LineFeed → ⊥) → line_end_at k r ≡ end.None
    go LineFeed h = absurd (h refl)
    go CarriageReturn h = refl
    go Backslash h = refl
    go Blank h = refl
    go Ordinary h = refl

only-physical : (b : ℕ) (t : List ℕ) → NoLineFeed (b ∷ t) → physical_lines (b ∷ t) ≡ (b ∷ t) ∷ []
only-physical b [] h = before_lines-ordinary (byte_kind b) b [] h.0
only-physical b (c ∷ t) h = before_lines-ordinary (byte_kind b) b (physical_lines (c ∷ t)) h.0 ∙ ap (onto_first (b ∷ [])) (only-physical c t h.1)

-- the new lines of a text without a line feed end in LF
file_line_end-last : (t : List ℕ) → NoLineFeed t → file_line_end t ≡ end.Lf
file_line_end-last [] h = refl
file_line_end-last (b ∷ t) h = ap first_line_end (only-physical b t h) ∙ ap line_end_or_lf (no-end (reverse (b ∷ t)) (none-reverse (b ∷ t) h))

-- ---- the first logical line

-- a text up to its first line feed, and what follows
record FirstFeed (t : List ℕ) : Type 0 where
  front : List ℕ
  feed : ℕ
  rest : List ℕ
  whole : t ≡ front ++ feed ∷ rest
  none : NoLineFeed front
  is : byte_kind feed ≡ LineFeed

feed-or_none : (t : List ℕ) → NoLineFeed t ⊎ FirstFeed t
feed-or_none [] = inl tt
feed-or_none (b ∷ t) = go (byte_kind b) refl (feed-or_none t)
  where
    later : (byte_kind b ≡ LineFeed → ⊥) → NoLineFeed t ⊎ FirstFeed t → NoLineFeed (b ∷ t) ⊎ FirstFeed (b ∷ t)
    later n (inl h) = inl (n, h)
    later n (inr f) = inr (record { front = b ∷ f.front; feed = f.feed; rest = f.rest; whole = ap (λ z. b ∷ z) f.whole; none = (n, f.none); is = f.is })

    go : (k : ByteKind) → byte_kind b ≡ k → NoLineFeed t ⊎ FirstFeed t → NoLineFeed (b ∷ t) ⊎ FirstFeed (b ∷ t)
    go LineFeed e i = inr (record { front = []; feed = b; rest = t; whole = refl; none = tt; is = e })
    go CarriageReturn e i = later (λ h. let z : CarriageReturn ≡ LineFeed = sym e ∙ h in cc) i
    go Backslash e i = later (λ h. let z : Backslash ≡ LineFeed = sym e ∙ h in cc) i
    go Blank e i = later (λ h. let z : Blank ≡ LineFeed = sym e ∙ h in cc) i
    go Ordinary e i = later (λ h. let z : Ordinary ≡ LineFeed = sym e ∙ h in cc) i

-- a group begins with its first line
group-begins : (c : Bool) (l first : List ℕ) (ls rest : List (List ℕ)) → before_group c l ls ≡ first ∷ rest → (after : List ℕ) × (first ≡ l ++ after)
group-begins false l first ls rest h = let e : l ≡ first = cc in ([], sym e ∙ sym (append-nil l))
group-begins true l first [] rest h = let e : l ≡ first = cc in ([], sym e ∙ sym (append-nil l))
group-begins true l first (x ∷ ls) rest h = let e : l ++ x ≡ first = cc in (x, sym e)

-- the line end of a file is that of its first logical line
pub file_line_end-first : (text first : List ℕ) (rest : List (List ℕ)) → logical_lines text ≡ first ∷ rest → file_line_end text ≡ file_line_end first
file_line_end-first [] first rest h = absurd (cc)
file_line_end-first (b ∷ t) first rest h = go (feed-or_none (b ∷ t))
  where
    go : NoLineFeed (b ∷ t) ⊎ FirstFeed (b ∷ t) → file_line_end (b ∷ t) ≡ file_line_end first
    go (inl n) = let e : (b ∷ t) ∷ [] ≡ first ∷ rest = sym (logical_lines-last b t n) ∙ h in let same : b ∷ t ≡ first = cc in ap file_line_end same
    go (inr f) =
        let p = f.front in
        let l = p ++ f.feed ∷ [] in
        let e : before_group (is_continued l) l (logical_lines f.rest) ≡ first ∷ rest = sym (logical_lines-line p f.feed f.rest f.none f.is) ∙ (ap logical_lines (sym f.whole) ∙ h) in
        let g = group-begins (is_continued l) l first (logical_lines f.rest) rest e in
        let first_is : first ≡ p ++ f.feed ∷ g.0 = g.1 ∙ append_assoc p (f.feed ∷ []) g.0 in
        ap file_line_end f.whole ∙ (file_line_end-line p f.feed f.rest f.none f.is ∙ sym (ap file_line_end first_is ∙ file_line_end-line p f.feed g.0 f.none f.is))

-- ---- by a search for the first line feed

-- if the search finds a line feed, the line end is that of the text up to it
pub file_line_end-found : (text : List ℕ) (feed : ℕ) → IsFirstByte (is_byte 10) text (Some feed) → file_line_end text ≡ line_end (take (feed + 1) text)
file_line_end-found text feed h =
    let high : feed < length text = h.0.high in
    let ten : get_or text feed 0 ≡ 10 = eqb-true (get_or text feed 0) 10 h.1 in
    let none : NoLineFeed (take feed text) = no-feed text feed (λ j below is. h.0.before j (omega arith) below (eq-eqb (get_or text j 0) 10 is)) in
    let line : take (feed + 1) text ≡ take feed text ++ 10 ∷ [] = take_more text feed 0 high ∙ ap (λ b. take feed text ++ b ∷ []) ten in
    let whole : text ≡ take feed text ++ 10 ∷ drop (feed + 1) text = sym (take-append-drop (feed + 1) text) ∙ (ap (λ l. l ++ drop (feed + 1) text) line ∙ append_assoc (take feed text) (10 ∷ []) (drop (feed + 1) text)) in
    ap file_line_end whole ∙ (file_line_end-line (take feed text) 10 (drop (feed + 1) text) none refl ∙ ap line_end (sym line))

-- if the search finds none, the line end is LF
pub file_line_end-not_found : (text : List ℕ) → IsFirstByte (is_byte 10) text std.None → file_line_end text ≡ end.Lf
file_line_end-not_found text h =
    file_line_end-last text (subst NoLineFeed (take-length text) (no-feed text (length text) (λ j below is. h j (omega arith) below (eq-eqb (get_or text j 0) 10 is))))
