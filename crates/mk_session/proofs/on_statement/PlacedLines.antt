-- The lines of a text after an edit of one place: which lines become which, in bytes.
use Rattle.std.proofs.Common.{◌≡◌, refl, sym, ap, ◌∙◌, subst, ℕ, List, [], ◌∷◌, ◌++◌, Bool, true, false, ◌&&◌, Option, Some, None, option_map, inl, inr}
use Rattle.std.specs.Prelude.{Ok, ◌⊎◌}
use Rattle.std.specs.List.{AllZip}
use Rattle.std.proofs.lemmas.List.{append-nil}
use Rattle.mk_lines.specs.PhysicalLines.{line_end, line_end_bytes, without_line_end, file_line_end}
use Rattle.mk_lines.specs.LogicalLines.{logical_lines, has_no_line_end, is_open}
use Rattle.mk_lines.specs.declared.ends.End.{End}
use Rattle.mk_lines.specs.declared.ends.End.TheVariants as ends
use Rattle.mk_lines.proofs.on_lines.LineEndLemmas.{without_line_end-line_end}
use Rattle.mk_lines.specs.Pieces.{Replacement}
use Rattle.mk_class.specs.ListTests.{is_empty, last_passes}
use Rattle.mk_class.specs.ClassedLines.{ClassedLine, classed_lines}
use Rattle.mk_tree.specs.LineTexts.{context_of, bytes_of}
use Rattle.mk_tree.specs.NewLineEnds.{lacks_line_end, line_ended, last_ended, above_ended}
use Rattle.mk_tree.proofs.on_documents.LinesInText.{bytes_of-classed, run-in_text}
use Rattle.mk_tree.proofs.on_changes.NewLineLemmas.{file_line_end-some, line-ended}
use Rattle.mk_edit_language.specs.Edits.{Edit, ChangeValue, ChangeLine, ChangePrereqs, AddLine, AddRecipe, SetRecipe, RemoveLines, RenameTarget, SwitchLine, ExchangeLines, EachLine}
use Rattle.mk_edit_language.specs.Stretches.{Stretch, between, insertion, touched_by}
use Rattle.mk_edit_language.specs.LineCauses.{follows_open_line}
use Rattle.mk_edit_language.specs.KeptLines.{edited_bytes, edited_lines, above_after}
use Rattle.mk_edit_language.specs.Refusals.{spans, text_after}
use Rattle.mk_edit_language.specs.declared.refusal.Refusal.TheVariants.{OpenLine}
use Rattle.mk_edit_language.proofs.on_edits.Accepted.{accepted, where_holds-none}
use Rattle.mk_edit_language.proofs.on_edits.EditPlaces.{touched-stretch}
use Rattle.mk_edit_language.proofs.on_edits.EditedLineLemmas.{edited}
use Rattle.mk_edit_language.proofs.on_line_runs.LinesAbove.{last-has_end}
use Rattle.mk_session.specs.Statement.{Lines, Become}

-- ---- a last line that gets a line end

abbrev IsEnded : (before after : List ℕ) → Type 0
IsEnded l m = (m ≡ l) ⊎ (without_line_end m ≡ l)

same-lines : (ls : Lines) → AllZip IsEnded ls ls
same-lines [] = tt
same-lines (l ∷ ls) = (inl refl, same-lines ls)

-- the lines above, where it is so with the last of them
above-last : (e : End) (above : List ClassedLine) → ((front : List ClassedLine) (l : ClassedLine) → above ≡ front ++ l ∷ [] → IsEnded l.bytes (line_ended e l).bytes)
    → AllZip IsEnded (bytes_of above) (bytes_of (last_ended e above))
above-last e [] h = tt
above-last e (l ∷ []) h = (h [] l refl, tt)
above-last e (l ∷ k ∷ ls) h = (inl refl, above-last e (k ∷ ls) (λ front m q. h (l ∷ front) m (ap (λ z. l ∷ z) q)))

no_line_end : (l : List ℕ) → has_no_line_end (line_end l) ≡ true → without_line_end l ≡ l
no_line_end l h = go (line_end l) refl h
  where
    go : (e : End) → line_end l ≡ e → has_no_line_end e ≡ true → without_line_end l ≡ l
    go ends.None i k = sym (append-nil (without_line_end l)) ∙ (ap (λ z. without_line_end l ++ line_end_bytes z) (sym i) ∙ without_line_end-line_end l)
    go ends.Lf i k = absurd (cc)
    go ends.CrLf i k = absurd (cc)

-- the last line of a text, if it is not open
last-line : (t : List ℕ) (front : List ClassedLine) (l : ClassedLine) → classed_lines t ≡ front ++ l ∷ [] → is_open l.bytes ≡ false → IsEnded l.bytes (line_ended (file_line_end t) l).bytes
last-line t front l w o = go (lacks_line_end l) refl (line-ended t front l (file_line_end t) w o (file_line_end-some t)).same_text
  where
    go : (b : Bool) → lacks_line_end l ≡ b → without_line_end (line_ended (file_line_end t) l).bytes ≡ without_line_end l.bytes → IsEnded l.bytes (line_ended (file_line_end t) l).bytes
    go true n h = inr (h ∙ no_line_end l.bytes n)
    go false n h = inl (rw n refl)

passes-last : (test : ClassedLine → Bool) (front : List ClassedLine) (l : ClassedLine) → last_passes test (front ++ l ∷ []) ≡ test l
passes-last test [] l = refl
passes-last test (x ∷ []) l = refl
passes-last test (x ∷ y ∷ front) l = passes-last test (y ∷ front) l

-- the lines above new ones, which may stand in the place of others
pub above-new : (t : List ℕ) (above run below : List ClassedLine) → classed_lines t ≡ above ++ (run ++ below) → (is_empty below && last_passes (λ k. is_open k.bytes) above) ≡ false
    → AllZip IsEnded (bytes_of above) (bytes_of (above_ended (file_line_end t) above below))
above-new t above run (b ∷ below) w o = same-lines (bytes_of above)
above-new t above (k ∷ run) [] w o =
    let ended : last_passes lacks_line_end above ≡ false = last-has_end t [] above k (run ++ []) w in
    above-last (file_line_end t) above (λ front l q. let n : lacks_line_end l ≡ false = sym (passes-last lacks_line_end front l) ∙ (ap (last_passes lacks_line_end) (sym q) ∙ ended) in inl (rw n refl))
above-new t above [] [] w o =
    above-last (file_line_end t) above
    (λ front l q. last-line t front l (w ∙ (append-nil above ∙ q)) (sym (passes-last (λ k. is_open k.bytes) front l) ∙ (ap (last_passes (λ k. is_open k.bytes)) (sym q) ∙ o)))

-- the lines above those that an edit touches
put-above : (t : List ℕ) (e : Edit) (rs : List Replacement) (s : Stretch) → option_map between (insertion (classed_lines t) e) ≡ Some s → touched_by (classed_lines t) e ≡ Some s → spans t e ≡ Ok rs
    → AllZip IsEnded (bytes_of s.above) (bytes_of (above_after t (insertion (classed_lines t) e) s))
put-above t e rs s m p h = go (insertion (classed_lines t) e) m (where_holds-none (follows_open_line (insertion (classed_lines t) e)) OpenLine (accepted t e rs h).line_closed)
  where
    go : (o : Option Stretch) → option_map between o ≡ Some s → follows_open_line o ≡ false → AllZip IsEnded (bytes_of s.above) (bytes_of (above_after t o s))
    go None i f = absurd (cc)
    go (Some n) i f =
        let same : between n ≡ s = cc in
        let whole : classed_lines t ≡ s.above ++ s.below = touched-stretch (classed_lines t) e s p ∙ ap (λ z. s.above ++ (z ++ s.below)) (ap (λ (z : Stretch). z.lines) (sym same)) in
        let not_open : (is_empty s.below && last_passes (λ k. is_open k.bytes) s.above) ≡ false = subst (λ (z : Stretch). (is_empty z.below && last_passes (λ k. is_open k.bytes) z.above) ≡ false) same f in
        above-new t s.above [] s.below whole not_open

above-ended : (t : List ℕ) (e : Edit) (rs : List Replacement) (s : Stretch) → touched_by (classed_lines t) e ≡ Some s → spans t e ≡ Ok rs
    → AllZip IsEnded (bytes_of s.above) (bytes_of (above_after t (insertion (classed_lines t) e) s))
above-ended t (AddLine p l) rs s h k = put-above t (AddLine p l) rs s h h k
above-ended t (AddRecipe nth g p c) rs s h k = put-above t (AddRecipe nth g p c) rs s h h k
above-ended t (ChangeValue w n c) rs s h k = same-lines (bytes_of s.above)
above-ended t (ChangeLine nth n c) rs s h k = same-lines (bytes_of s.above)
above-ended t (ChangePrereqs nth g c) rs s h k = same-lines (bytes_of s.above)
above-ended t (SetRecipe nth g w c) rs s h k = same-lines (bytes_of s.above)
above-ended t (RemoveLines r) rs s h k = same-lines (bytes_of s.above)
above-ended t (SwitchLine w nth n) rs s h k = same-lines (bytes_of s.above)
above-ended t (RenameTarget o n) rs s h k = same-lines (bytes_of s.above)
above-ended t (ExchangeLines a ts) rs s h k = absurd (cc)
above-ended t (EachLine d) rs s h k = absurd (cc)

-- ---- lines that become others

-- no line
abbrev pub Nothing : (above lines : Lines) → Type 0
Nothing up ls = ls ≡ []

-- the lines that an edit of one place touches become its edited lines
pub lines-become : (Old New : Lines → Lines → Type 0) (t : List ℕ) (e : Edit) (rs : List Replacement) (s : Stretch) → touched_by (classed_lines t) e ≡ Some s → spans t e ≡ Ok rs
    → Old (bytes_of s.above) (bytes_of s.lines) → New (bytes_of s.above) (edited_bytes t e s rs) → Become Old New (logical_lines t) (logical_lines (text_after t e))
lines-become Old New t e rs s p h o n =
    let E = edited t e rs s p h in
    let A = above_after t (insertion (classed_lines t) e) s in
    let R = run-in_text t s.above s.lines s.below E.before in
    let T = run-in_text (text_after t e) A (edited_lines t e s rs) s.below E.after in
    let after : logical_lines (text_after t e) ≡ bytes_of A ++ (edited_bytes t e s rs ++ bytes_of s.below) =
    T.lines ∙ ap (λ z. bytes_of A ++ (z ++ bytes_of s.below)) (bytes_of-classed (context_of s.above) (edited_bytes t e s rs)) in
    (bytes_of s.above, bytes_of s.lines, edited_bytes t e s rs, bytes_of s.below, bytes_of A, R.lines, o, n, after, above-ended t e rs s p h)

-- lines that are taken out, told by the lines before and after
pub lines-go : (Old New : Lines → Lines → Type 0) (t u : List ℕ) (above lines below : List ClassedLine) → classed_lines t ≡ above ++ (lines ++ below) → classed_lines u ≡ above ++ below
    → Old (bytes_of above) (bytes_of lines) → New (bytes_of above) [] → Become Old New (logical_lines t) (logical_lines u)
lines-go Old New t u above lines below h k o n =
    let R = run-in_text t above lines below h in
    let T = run-in_text u above [] below k in
    (bytes_of above, bytes_of lines, [], bytes_of below, bytes_of above, R.lines, o, n, T.lines, same-lines (bytes_of above))
