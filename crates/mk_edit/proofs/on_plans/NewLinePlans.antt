-- Plans of edits that put a line in: between lines, after lines that end, and after a last line that gets its line end.
use Rattle.std.proofs.Common.{◌≡◌, refl, sym, ap, ◌∙◌, subst, arith, ℕ, ◌+◌, ◌<◌, ◌≤◌, ◌==◌, ◌&&◌, List, [], ◌∷◌, ◌++◌, Bool, true, false, cond, not, length, length-append, Option, Some, None, eq-eqb}
use Rattle.std.specs.Prelude.{Ok, if◌then◌else◌}
use Rattle.std.proofs.lemmas.List.{append-nil}
use Rattle.std.proofs.lemmas.Bool.{ne_eqb}
use Rattle.mk_lines.specs.Limits.{max_text}
use Rattle.mk_lines.specs.PhysicalLines.{line_end_bytes, file_line_end, without_line_end}
use Rattle.mk_lines.specs.LogicalLines.{has_no_line_end, is_open}
use Rattle.mk_lines.specs.declared.ends.End.{End}
use Rattle.mk_lines.specs.declared.ends.End.TheVariants as end
use Rattle.mk_lines.specs.Pieces.{Replacement}
use Rattle.mk_class.specs.Classes.{is_conditional}
use Rattle.mk_class.specs.ListTests.{is_empty, last_passes}
use Rattle.mk_class.specs.ClassedLines.{ClassedLine, classed_lines}
use Rattle.mk_tree.specs.Documents.{IsFaithful, context_of}
use Rattle.mk_tree.specs.LineTexts.{line_in}
use Rattle.mk_tree.specs.NewLineEnds.{above_ended, last_ended, lacks_line_end, with_line_end}
use Rattle.mk_tree.specs.LocatedLines.{LocatedLine, located_line, located_lines, located_text, size_of, last_line, bytes_of_line}
use Rattle.mk_tree.proofs.on_changes.NewLineLemmas.{file_line_end-some, last_ended-last}
use Rattle.mk_tree.proofs.on_changes.EndedLast.{end-put, ended-already, located-last}
use Rattle.mk_edit_language.specs.Edits.{Edit}
use Rattle.mk_edit_language.specs.Stretches.{Stretch, between, insertion}
use Rattle.mk_edit_language.specs.Costs.{cost, size}
use Rattle.mk_edit_language.specs.KeptLines.{new_line_bytes, above_after}
use Rattle.mk_edit_language.specs.LineCauses.{follows_open_line}
use Rattle.mk_edit_language.specs.Refusals.{spans, text_after}
use Rattle.mk_edit_language.proofs.on_edits.Accepted.{accepted, where_holds-none}
use Rattle.mk_edit_language.proofs.on_edits.EditedLineLemmas.{edited, put-there}
use Rattle.mk_patch.specs.Moves.{PutIn, SwapEnd, IsPlain}
use Rattle.mk_patch.proofs.on_moves.TextLineLemmas.{plain-located, text_line-put_in, text_line-put_in_ended}
use Rattle.mk_patch.proofs.on_moves.ExchangeLemmas.{append-one}
use Rattle.mk_edit.specs.Planned.{IsPlanned, ended_by, ended_lines}
use Rattle.mk_edit.specs.PlannedMoves.{line_read_at, is_unended, follows_unended, last_bytes_ended, ending_moves, inserting_moves, CanInsert}
use Rattle.mk_edit.proofs.on_plans.PlanLemmas.{lead-planned, after-fits, faithful-length, read-at, puts-in, touched-place}

-- ---- the last line

-- a list that is not empty, with its last element apart
pub record LastApart (t : List ClassedLine) : Type 0 where
  pub front : List ClassedLine
  pub last : ClassedLine
  pub is : t ≡ front ++ last ∷ []

pub last-apart : (b : ClassedLine) (t : List ClassedLine) → LastApart (b ∷ t)
last-apart b [] = record { front = []; last = b; is = refl }
last-apart b (c ∷ t) = let a = last-apart c t in record { front = b ∷ a.front; last = a.last; is = ap (λ z. b ∷ z) a.is }

pub last_passes-last : (p : ClassedLine → Bool) (front : List ClassedLine) (l : ClassedLine) → last_passes p (front ++ l ∷ []) ≡ p l
last_passes-last p [] l = refl
last_passes-last p (x ∷ []) l = refl
last_passes-last p (x ∷ y ∷ front) l = last_passes-last p (y ∷ front) l

last-shown : (front : List ClassedLine) (l : ClassedLine) → last_line (located_lines (front ++ l ∷ [])) ≡ Some (located_line l)
last-shown [] l = refl
last-shown (x ∷ []) l = refl
last-shown (x ∷ y ∷ front) l = last-shown (y ∷ front) l

-- a line end has some bytes
pub some-end : (e : End) → has_no_line_end e ≡ false → 0 < length (line_end_bytes e)
some-end end.None h = absurd (cc)
some-end end.Lf h = omega arith
some-end end.CrLf h = omega arith

-- ---- sizes

size-put : (above below : List ClassedLine) (l : ClassedLine) → size_of (located_lines (above ++ l ∷ below)) ≡ size_of (located_lines (above ++ below)) + length l.bytes
size-put [] below l = omega arith
size-put (x ∷ above) below l = omega (arith, size-put above below l)

size-ended : (front : List ClassedLine) (last l : ClassedLine) (b : List ℕ) → length last.bytes ≤ length b
    → size_of (located_lines (front ++ last ∷ [])) + length l.bytes ≤ size_of (located_lines (front ++ record last { bytes = b } ∷ l ∷ []))
size-ended [] last l b few = omega (arith, few)
size-ended (x ∷ front) last l b few = omega (arith, size-ended front last l b few)

-- ---- the plan

-- What is known of an edit that puts a line in: the lines before and after it.
record IsNewLine (e : Edit) (ls : List LocatedLine) (rs : List Replacement) (above below : List ClassedLine) (new : ClassedLine) (at : ℕ) (m : List ℕ) : Type 0 where
  faithful : IsFaithful ls
  spans_are : spans (located_text ls) e ≡ Ok rs
  before : classed_lines (located_text ls) ≡ above ++ below
  after : classed_lines (text_after (located_text ls) e) ≡ above_ended (file_line_end (located_text ls)) above below ++ new ∷ below
  closed : (is_empty below && last_passes (λ l. is_open l.bytes) above) ≡ false
  plain : not (is_conditional new.class) ≡ true
  bytes : new.bytes ≡ m
  read : line_read_at ls at m ≡ located_line new
  place : length above ≡ at
  one : cost (located_text ls) e ≡ 1
  none_gone : size (located_text ls) e ≡ 0
  ends : ended_lines ls e ≡ (if follows_unended ls at then 1 else 0)

-- the moves are what is planned, and the line fits
record IsFitting (e : Edit) (ls : List LocatedLine) (at : ℕ) (m : List ℕ) : Type 0 where
  fits : size_of ls + length m ≤ max_text
  planned : IsPlanned e ls (inserting_moves ls at m)

shown : (ls : List LocatedLine) (before : List ClassedLine) → IsFaithful ls → classed_lines (located_text ls) ≡ before → ls ≡ located_lines before
shown ls before f b = f ∙ ap located_lines b

-- the lines above stay
put-between : (e : Edit) (ls : List LocatedLine) (rs : List Replacement) (above below : List ClassedLine) (new : ClassedLine) (at : ℕ) (m : List ℕ) → IsNewLine e ls rs above below new at m
    → above_ended (file_line_end (located_text ls)) above below ≡ above → follows_unended ls at ≡ false → IsFitting e ls at m
put-between e ls rs above below new at m N stays none =
    let t = located_text ls in
    let after : classed_lines (text_after t e) ≡ above ++ new ∷ below = N.after ∙ ap (λ z. z ++ new ∷ below) stays in
    let few = after-fits t e rs (above ++ new ∷ below) N.spans_are after in
    let moves : inserting_moves ls at m ≡ PutIn (length above) (located_line new) ∷ [] =
    ap (λ b. ending_moves b ls ++ PutIn at (line_read_at ls at m) ∷ []) none
    ∙ (ap (λ z. PutIn at z ∷ []) N.read ∙ ap (λ n. PutIn n (located_line new) ∷ []) (sym N.place)) in
    let L = text_line-put_in above below new N.plain few in
    let ends : ended_lines ls e ≡ 0 = N.ends ∙ ap (λ q. if q then 1 else 0) none in
    record {
      fits = omega (arith, ap size_of (shown ls (above ++ below) N.faithful N.before), size-put above below new, few, ap length N.bytes);
      planned = rw moves (lead-planned e ls rs (PutIn (length above) (located_line new) ∷ []) (above ++ below) (above ++ new ∷ below) N.faithful N.spans_are N.before after L (omega (arith, N.one, ends)) (omega (arith, N.none_gone, ends)));
    }

-- the last line gets its line end
put-after_end : (e : Edit) (ls : List LocatedLine) (rs : List Replacement) (front : List ClassedLine) (last new : ClassedLine) (at : ℕ) (m : List ℕ) → IsNewLine e ls rs (front ++ last ∷ []) [] new at m
    → is_open last.bytes ≡ false → lacks_line_end last ≡ true → follows_unended ls at ≡ true → IsFitting e ls at m
put-after_end e ls rs front last new at m N closed lacks some =
    let t = located_text ls in
    let E = file_line_end t in
    let b = last.bytes ++ line_end_bytes E in
    let ended : ClassedLine = record last { bytes = b } in
    let before : classed_lines t ≡ front ++ last ∷ [] = N.before ∙ append-nil (front ++ last ∷ []) in
    let X = end-put t front last E before closed (file_line_end-some t) lacks in
    let same : without_line_end b ≡ without_line_end last.bytes = X.same_text ∙ ap without_line_end (located-last front last) in
    let above : last_ended E (front ++ last ∷ []) ≡ front ++ ended ∷ [] = last_ended-last E front last ∙ ap (λ q. front ++ cond q (with_line_end E last) last ∷ []) lacks in
    let after : classed_lines (text_after t e) ≡ front ++ ended ∷ new ∷ [] = N.after ∙ (ap (λ z. z ++ new ∷ []) above ∙ append-one front ended (new ∷ [])) in
    let few = after-fits t e rs (front ++ ended ∷ new ∷ []) N.spans_are after in
    let longer : length b ≡ length last.bytes + length (line_end_bytes E) = length-append last.bytes (line_end_bytes E) in
    let bytes : last_bytes_ended ls ≡ b = ap (λ o. bytes_of_line o ++ line_end_bytes E) (ap last_line (shown ls (front ++ last ∷ []) N.faithful before) ∙ last-shown front last) in
    let moves : inserting_moves ls at m ≡ SwapEnd b ∷ PutIn at (located_line new) ∷ [] =
    ap (λ q. ending_moves q ls ++ PutIn at (line_read_at ls at m) ∷ []) some ∙ (ap (λ z. SwapEnd z ∷ PutIn at (line_read_at ls at m) ∷ []) bytes ∙ ap (λ z. SwapEnd b ∷ PutIn at z ∷ []) N.read) in
    let ends : ended_lines ls e ≡ 1 = N.ends ∙ ap (λ q. if q then 1 else 0) some in
    let L = text_line-put_in_ended front last new b at (omega (arith, N.place, length-append front (last ∷ []))) (omega (arith, longer, some-end E (file_line_end-some t))) same N.plain few in
    record {
      fits = omega (arith, ap size_of (shown ls (front ++ last ∷ []) N.faithful before), size-ended front last new b (omega (arith, longer)), few, ap length N.bytes);
      planned =
          rw moves
          (lead-planned e ls rs (SwapEnd b ∷ PutIn at (located_line new) ∷ []) (front ++ last ∷ []) (front ++ ended ∷ new ∷ []) N.faithful N.spans_are before after L (omega (arith, N.one, ends)) (omega (arith, N.none_gone, ends)));
    }

put-anywhere : (e : Edit) (ls : List LocatedLine) (rs : List Replacement) (above below : List ClassedLine) (new : ClassedLine) (at : ℕ) (m : List ℕ) → IsNewLine e ls rs above below new at m → IsFitting e ls at m
put-anywhere e ls rs above (b ∷ below) new at m N =
    let many = faithful-length ls (above ++ b ∷ below) N.faithful N.before in
    let not_last : (at == length ls) ≡ false = ne_eqb at (length ls) (λ k. omega (arith, many, length-append above (b ∷ below), N.place, k)) in
    put-between e ls rs above (b ∷ below) new at m N refl (ap (λ z. z && is_unended (last_line ls)) not_last)
put-anywhere e ls rs [] [] new at m N =
    let none : last_line ls ≡ None = ap last_line (shown ls [] N.faithful N.before) in
    put-between e ls rs [] [] new at m N refl (ap (λ o. (at == length ls) && is_unended o) none ∙ neither (at == length ls))
  where
    neither : (b : Bool) → (b && false) ≡ false
    neither true = refl
    neither false = refl
put-anywhere e ls rs (x ∷ xs) [] new at m N = apart (last-apart x xs)
  where
    apart : LastApart (x ∷ xs) → IsFitting e ls at m
    apart a =
        let M : IsNewLine e ls rs (a.front ++ a.last ∷ []) [] new at m = subst (λ z. IsNewLine e ls rs z [] new at m) a.is N in
        let closed : is_open a.last.bytes ≡ false = sym (last_passes-last (λ z. is_open z.bytes) a.front a.last) ∙ M.closed in
        let before : classed_lines (located_text ls) ≡ a.front ++ a.last ∷ [] = M.before ∙ append-nil (a.front ++ a.last ∷ []) in
        let end : (at == length ls) ≡ true = eq-eqb at (length ls) (sym M.place ∙ sym (faithful-length ls (a.front ++ a.last ∷ []) M.faithful before)) in
        let shows : last_line ls ≡ Some (located_line a.last) = ap last_line (shown ls (a.front ++ a.last ∷ []) M.faithful before) ∙ last-shown a.front a.last in
        let follows : follows_unended ls at ≡ lacks_line_end a.last = ap (λ z. z && is_unended (last_line ls)) end ∙ ap is_unended shows in
        go a M closed follows (lacks_line_end a.last) refl
      where
        go : (a : LastApart (x ∷ xs)) → IsNewLine e ls rs (a.front ++ a.last ∷ []) [] new at m → is_open a.last.bytes ≡ false → follows_unended ls at ≡ lacks_line_end a.last → (b : Bool) → lacks_line_end a.last ≡ b → IsFitting e ls at m
        go a M closed follows true k = put-after_end e ls rs a.front a.last new at m M closed k (follows ∙ k)
        go a M closed follows false k = put-between e ls rs (a.front ++ a.last ∷ []) [] new at m M (ended-already a.front a.last (file_line_end (located_text ls)) k) (follows ∙ k)

-- A line of these bytes can be put in at a place, and the moves that do it are what is planned.
pub record IsPutIn (e : Edit) (ls : List LocatedLine) (at : ℕ) (m : List ℕ) : Type 0 where
  pub can : CanInsert ls at m
  pub costs : cost (located_text ls) e ≡ 1
  pub planned : IsPlanned e ls (inserting_moves ls at m)

pub line-put_in : (e : Edit) (ls : List LocatedLine) (rs : List Replacement) (s : Stretch) (at : ℕ) (m : List ℕ) → IsFaithful ls → spans (located_text ls) e ≡ Ok rs
    → insertion (classed_lines (located_text ls)) e ≡ Some s → length s.above ≡ at → new_line_bytes (located_text ls) e s ≡ m → IsPutIn e ls at m
line-put_in e ls rs s at m f h i place b =
    let t = located_text ls in
    let new = line_in (context_of s.above) m in
    let Q = puts-in t e rs s i in
    let E = edited t e rs (between s) Q.place h in
    let P = put-there t e rs (between s) m Q.place h (Q.bytes ∙ ap (λ z. z ∷ []) b) in
    let after : classed_lines (text_after t e) ≡ above_ended (file_line_end t) s.above s.below ++ new ∷ s.below = P.lines ∙ ap (λ (o : Option Stretch). above_after t o (between s) ++ new ∷ s.below) i in
    let read : line_read_at ls at m ≡ located_line new = read-at ls s.above s.below at m E.before place in
    let closed : follows_open_line (Some s) ≡ false = ap follows_open_line (sym i) ∙ where_holds-none _ _ (accepted t e rs h).line_closed in
    let F = put-anywhere e ls rs s.above s.below new at m (record {
      faithful = f;
      spans_are = h;
      before = E.before;
      after = after;
      closed = closed;
      plain = P.plain;
      bytes = refl;
      read = read;
      place = place;
      one = Q.one;
      none_gone = Q.none;
      ends = ap (ended_by ls) (touched-place (classed_lines t) e (between s) Q.place ∙ i) ∙ ap (λ n. if follows_unended ls n then 1 else 0) place;
    }) in
    record {
      can = record {
        in_range = omega (arith, faithful-length ls (s.above ++ s.below) f E.before, length-append s.above s.below, place);
        line = record { one = P.one; plain = subst IsPlain (sym read) (plain-located new P.plain) };
        fits = F.fits;
      };
      costs = Q.one;
      planned = F.planned;
    }
