-- The lines above new lines: if no line is below, the last of them gets a line end if it has none, and is otherwise as it was.
use Rattle.std.proofs.Common.{◌≡◌, refl, sym, ap, ◌∙◌, subst, ℕ, List, [], ◌∷◌, ◌++◌, append_assoc, Bool, true, false, not, ◌&&◌, if◌then◌else◌, cond, max}
use Rattle.std.proofs.lemmas.List.{append-nil}
use Rattle.mk_lines.specs.PhysicalLines.{line_end, line_end_bytes}
use Rattle.mk_lines.specs.LogicalLines.{is_open, is_continued, has_no_line_end, ends_line}
use Rattle.mk_lines.specs.declared.ends.End.{End}
use Rattle.mk_lines.proofs.on_lines.LineLemmas.{Ends}
use Rattle.mk_lines.proofs.on_lines.LineEndLemmas.{Ends-ends_line}
use Rattle.mk_lines.proofs.on_cells.LineCells.{one_line-not_empty}
use Rattle.mk_lines.specs.Cells.{Cell}
use Rattle.mk_class.specs.ListTests.{is_empty, last_passes}
use Rattle.mk_class.specs.Classes.{Class}
use Rattle.mk_class.specs.Contexts.{context_after, conditionals_after}
use Rattle.mk_class.specs.ClassedLines.{ClassedLine, classed_lines}
use Rattle.mk_tree.specs.Documents.{text_of, context_of, most_conditionals}
use Rattle.mk_tree.specs.Items.{items}
use Rattle.mk_tree.specs.NewLineEnds.{lacks_line_end, with_line_end, line_ended, last_ended, above_ended, missing_line_end}
use Rattle.mk_tree.proofs.on_changes.NewLineLemmas.{LineEnded, line-ended, last_ended-last}
use Rattle.mk_tree.proofs.on_changes.RunsReplaced.{Ends-append, Ends-nothing}
use Rattle.mk_tree.proofs.on_documents.LinesInText.{LineInText, line-in_text, text_of-append, items-append, context_of-last}

-- ---- the last of a list

-- a list that is not empty, with its last element apart
record LastApart {A : Type 0} (t : List A) : Type 0 where
  front : List A
  last : A
  is : t ≡ front ++ last ∷ []
  passes : (p : A → Bool) → last_passes p t ≡ p last

last-apart : {A : Type 0} (b : A) (t : List A) → LastApart (b ∷ t)
last-apart b [] = record { front = []; last = b; is = refl; passes = λ p. refl }
last-apart b (c ∷ t) = let a = last-apart c t in record { front = b ∷ a.front; last = a.last; is = ap (λ z. b ∷ z) a.is; passes = λ p. a.passes p }

-- ---- lines with others below them

-- a line with another below it has a line end
line-has_end : (t : List ℕ) (above : List ClassedLine) (q l : ClassedLine) (rest : List ClassedLine) → classed_lines t ≡ above ++ q ∷ l ∷ rest → lacks_line_end q ≡ false
line-has_end t above q l rest h =
    let place : LineInText t above q (l ∷ rest) = line-in_text t above q (l ∷ rest) h in
    let filled = one_line-not_empty q.bytes place.one in
    some q.bytes filled.0 filled.1 filled.2 (Ends-ends_line q.bytes place.ends)
  where
    left : (a b : Bool) → (not a && b) ≡ true → a ≡ false
    left true b h = cc
    left false b h = refl

    some : (x : List ℕ) (b : ℕ) (r : List ℕ) → x ≡ b ∷ r → ends_line x ≡ true → has_no_line_end (line_end x) ≡ false
    some x b r e h =
        ap (λ z. has_no_line_end (line_end z)) e
        ∙ left (has_no_line_end (line_end (b ∷ r))) (not (is_continued (b ∷ r))) (ap ends_line (sym e) ∙ h)

-- the last of lines with another below them has a line end
pub last-has_end : (t : List ℕ) (above run : List ClassedLine) (l : ClassedLine) (rest : List ClassedLine) → classed_lines t ≡ above ++ (run ++ l ∷ rest) → last_passes lacks_line_end run ≡ false
last-has_end t above [] l rest h = refl
last-has_end t above (x ∷ xs) l rest h =
    let a = last-apart x xs in
    let F = a.front in
    let q = a.last in
    let e : classed_lines t ≡ (above ++ F) ++ q ∷ l ∷ rest =
    h ∙ (ap (λ (z : List ClassedLine). above ++ (z ++ l ∷ rest)) a.is ∙ (ap (λ z. above ++ z) (append_assoc F (q ∷ []) (l ∷ rest)) ∙ sym (append_assoc above F (q ∷ l ∷ rest)))) in
    a.passes lacks_line_end ∙ line-has_end t (above ++ F) q l rest e

-- ---- the lines above new lines

-- What is known of the lines above a run of lines, and of the lines that they are afterwards, with some bytes added to the last.
pub record AreAboveEnded (above run below after : List ClassedLine) (added : List ℕ) : Type 0 where
  pub text : text_of after ≡ text_of above ++ added
  -- with the lines below they are the lines of a text
  pub whole_text : List ℕ
  pub whole : classed_lines whole_text ≡ after ++ (run ++ below)
  -- they end a line, if no line is below them
  pub ends : run ++ below ≡ [] → Ends (text_of after)
  -- they have the same items, lead to the same context, and open as many conditionals
  pub same_items : items after ≡ items above
  pub same_context : context_of after ≡ context_of above
  pub same_most : most_conditionals 0 (after ++ (run ++ below)) ≡ most_conditionals 0 (above ++ (run ++ below))

-- the lines above stay
above-stay : (t : List ℕ) (above run below : List ClassedLine) → classed_lines t ≡ above ++ (run ++ below) → (run ++ below ≡ [] → Ends (text_of above)) → AreAboveEnded above run below above []
above-stay t above run below h k = record {
  text = sym (append-nil (text_of above));
  whole_text = t;
  whole = h;
  ends = k;
  same_items = refl;
  same_context = refl;
  same_most = refl;
}

has-more : (run : List ClassedLine) (b : ClassedLine) (below : List ClassedLine) → run ++ b ∷ below ≡ [] → ⊥
has-more [] b below h = cc
has-more (l ∷ run) b below h = cc

-- a last line that has a line end stays
last_ended-already : (e : End) (ls : List ClassedLine) → last_passes lacks_line_end ls ≡ false → last_ended e ls ≡ ls
last_ended-already e [] h = refl
last_ended-already e (l ∷ []) h = ap (λ b. cond b (with_line_end e l) l ∷ []) h
last_ended-already e (l ∷ k ∷ ls) h = ap (λ z. l ∷ z) (last_ended-already e (k ∷ ls) h)

-- the most conditionals that are open, with another line of the same class
most-last : (n : ℕ) (front : List ClassedLine) (l m : ClassedLine) → m.class ≡ l.class → most_conditionals n (front ++ m ∷ []) ≡ most_conditionals n (front ++ l ∷ [])
most-last n [] l m h = ap (λ (k : Class Cell). max n (conditionals_after n k)) h
most-last n (x ∷ front) l m h = ap (max n) (most-last (conditionals_after n x.class) front l m h)

-- a last line that is not open, with a line end put after it if it has none
end-put : (t : List ℕ) (front : List ClassedLine) (l : ClassedLine) (e : End) → classed_lines t ≡ front ++ l ∷ [] → is_open l.bytes ≡ false → has_no_line_end e ≡ false
    → AreAboveEnded (front ++ l ∷ []) [] [] (front ++ line_ended e l ∷ []) (if lacks_line_end l then line_end_bytes e else [])
end-put t front l e h o k =
    let new = line_ended e l in
    let added = if lacks_line_end l then line_end_bytes e else [] in
    let L : LineEnded front l new added = line-ended t front l e h o k in
    let place : LineInText t front l [] = line-in_text t front l [] h in
    let whole : text_of (front ++ new ∷ []) ≡ text_of front ++ new.bytes = text_of-append front (new ∷ []) ∙ ap (λ z. text_of front ++ z) (append-nil new.bytes) in
    let old : text_of (front ++ l ∷ []) ≡ text_of front ++ l.bytes = text_of-append front (l ∷ []) ∙ ap (λ z. text_of front ++ z) (append-nil l.bytes) in
    let same : most_conditionals 0 (front ++ new ∷ []) ≡ most_conditionals 0 (front ++ l ∷ []) = most-last 0 front l new L.class in
    let ended : Ends (text_of (front ++ new ∷ [])) = subst Ends (sym whole) (Ends-append (text_of front) new.bytes place.begins L.ends) in
    record {
      text = whole ∙ (ap (λ z. text_of front ++ z) L.bytes ∙ (sym (append_assoc (text_of front) l.bytes added) ∙ ap (λ z. z ++ added) (sym old)));
      whole_text = text_of front ++ new.bytes;
      whole = L.lines ∙ sym (append-nil (front ++ new ∷ []));
      ends = λ z. ended;
      same_items = items-append front (new ∷ []) ∙ (ap (λ z. items front ++ (z ++ [])) L.item ∙ sym (items-append front (l ∷ [])));
      same_context = context_of-last front new ∙ (ap (λ z. context_after (context_of front) z) L.class ∙ sym (context_of-last front l));
      same_most = ap (most_conditionals 0) (append-nil (front ++ new ∷ [])) ∙ (same ∙ ap (most_conditionals 0) (sym (append-nil (front ++ l ∷ []))));
    }

pub above-ended : (t : List ℕ) (above run below : List ClassedLine) (e : End) → classed_lines t ≡ above ++ (run ++ below)
    → (is_empty below && last_passes (λ l. is_open l.bytes) above) ≡ false → has_no_line_end e ≡ false
    → AreAboveEnded above run below (above_ended e above below) (missing_line_end e above below)
above-ended t above run (b ∷ below) e h o k = above-stay t above run (b ∷ below) h (λ z. absurd (has-more run b below z))
above-ended t above (l ∷ run) [] e h o k =
    let n : last_passes lacks_line_end above ≡ false = last-has_end t [] above l (run ++ []) h in
    let stays : AreAboveEnded above (l ∷ run) [] above (if false then line_end_bytes e else []) = above-stay t above (l ∷ run) [] h (λ z. absurd (cc)) in
    let given : AreAboveEnded above (l ∷ run) [] (last_ended e above) (if false then line_end_bytes e else []) =
    subst (λ (z : List ClassedLine). AreAboveEnded above (l ∷ run) [] z (if false then line_end_bytes e else [])) (sym (last_ended-already e above n)) stays in
    subst (λ z. AreAboveEnded above (l ∷ run) [] (last_ended e above) (if z then line_end_bytes e else [])) (sym n) given
above-ended t [] [] [] e h o k = above-stay t [] [] [] h (λ z. Ends-nothing)
above-ended t (x ∷ xs) [] [] e h o k = at (x ∷ xs) (last-apart x xs) (h ∙ append-nil (x ∷ xs)) o
  where
    at : (ls : List ClassedLine) (a : LastApart ls) → classed_lines t ≡ ls → last_passes (λ l. is_open l.bytes) ls ≡ false → AreAboveEnded ls [] [] (last_ended e ls) (missing_line_end e ls [])
    at ls a w n =
        let F = a.front in
        let l = a.last in
        let closed : is_open l.bytes ≡ false = sym (a.passes (λ z. is_open z.bytes)) ∙ n in
        let lacks : last_passes lacks_line_end (F ++ l ∷ []) ≡ lacks_line_end l = ap (last_passes lacks_line_end) (sym a.is) ∙ a.passes lacks_line_end in
        let put : AreAboveEnded (F ++ l ∷ []) [] [] (last_ended e (F ++ l ∷ [])) (missing_line_end e (F ++ l ∷ []) []) =
        rw (last_ended-last e F l, lacks) (end-put t F l e (w ∙ a.is) closed k) in
        subst (λ (z : List ClassedLine). AreAboveEnded z [] [] (last_ended e z) (missing_line_end e z [])) (sym a.is) put
