-- A line switched between an assignment and a comment: its causes by what the code asks, and its plan.
use Rattle.std.proofs.Common.{◌≡◌, refl, sym, ap, ◌∙◌, subst, arith, ℕ, ◌+◌, ◌<◌, ◌≤◌, Bool, true, false, not, ◌&&◌, ◌||◌, List, [], ◌∷◌, ◌++◌, append_assoc, length, length-append, map, take, drop, Option, Some, None, option_map, inl, inr, ◌⊎◌}
use Rattle.std.specs.Prelude.{Ok, Err, nat_lt, slice_get}
use Rattle.std.proofs.Math.Bool.{or-false}
use Rattle.std.proofs.lemmas.Bool.{lt-ltb, le-ltb}
use Rattle.std.proofs.lemmas.List.{append-nil, length-map, map-append}
use Rattle.std.proofs.Math.Seq.{drop-append_seam, drop-append-add, take-append_seam}
use Rattle.mk_lines.specs.Limits.{max_text}
use Rattle.mk_lines.specs.Bytes.{is_blank_byte}
use Rattle.mk_lines.specs.Cells.{Byte, raw_text}
use Rattle.mk_lines.specs.Lists.{leading}
use Rattle.mk_lines.specs.Pieces.{Replacement, replacements}
use Rattle.mk_lines.specs.declared.split.Span.{Span}
use Rattle.mk_lines.proofs.on_cells.CellLemmas.{raw_text-bytes}
use Rattle.mk_class.specs.ClassTable.{class_of}
use Rattle.mk_class.specs.ClassedLines.{ClassedLine, classed_lines}
use Rattle.mk_class.specs.Contexts.{Context}
use Rattle.mk_class.specs.declared.context.RuleFlag.TheVariants.{Off}
use Rattle.mk_tree.specs.Documents.{IsFaithful, context_of, text_of}
use Rattle.mk_tree.specs.Leaning.{is_same_flag, leans}
use Rattle.mk_tree.specs.LineTexts.{StandingLine, line_in}
use Rattle.mk_tree.specs.LocatedLines.{LocatedLine, located_line, located_lines, located_text, size_of}
use Rattle.mk_tree.proofs.on_changes.Sizes.{size_of-text}
use Rattle.mk_edit_language.specs.Addresses.{assigns, switch_address}
use Rattle.mk_edit_language.specs.Causes.{where_holds}
use Rattle.mk_edit_language.specs.Comments.{comment_mark}
use Rattle.mk_edit_language.specs.Edits.{Switch, CommentOut, Uncomment, Edit, SwitchLine}
use Rattle.mk_edit_language.specs.EditSpans.{spans_of, where_found}
use Rattle.mk_edit_language.specs.KeptLines.{respanned_bytes}
use Rattle.mk_edit_language.specs.Lengths.{bytes_put, bytes_taken}
use Rattle.mk_edit_language.specs.LineCauses.{is_found_switch_misread, leaning, misread, switch_leans, too_long}
use Rattle.mk_edit_language.specs.LineChanges.{fits_line}
use Rattle.mk_edit_language.specs.Refusals.{first_cause, spans}
use Rattle.mk_edit_language.specs.Stretches.{this_line}
use Rattle.mk_edit_language.specs.SwitchedLines.{is_switch_misread, leans_on_assignment, line_switched, switch_pieces, switch_spans}
use Rattle.mk_edit_language.specs.declared.refusal.Refusal.{Refusal}
use Rattle.mk_edit_language.specs.declared.refusal.Refusal.TheVariants.{Leans, Misread, NoMemory, TooLong}
use Rattle.mk_edit_language.proofs.on_comments.SwitchedPieces.{switch_rest, switch-new, switch-old}
use Rattle.mk_edit_language.proofs.on_edits.EditedLineLemmas.{respanned-pieces}
use Rattle.mk_edit_parts.specs.Found.{IsAddressed, IsFoundAt, IsPlaceOf}
use Rattle.mk_edit_parts.specs.LineRanges.{is_led_first_located}
use Rattle.mk_edit_parts.specs.LocatedParts.{IsClassed, assigns_located}
use Rattle.mk_edit_parts.specs.declared.seek.Found.{Found}
use Rattle.mk_edit_parts.proofs.CauseLemmas.{holds, passed, refused, unrefused}
use Rattle.mk_edit_parts.proofs.on_finding.LeanLemmas.{led_first-located}
use Rattle.mk_edit_parts.proofs.on_finding.PartLemmas.{assigns-located}
use Rattle.mk_edit_parts.proofs.on_finding.PlaceLemmas.{IsLineAt, line-at}
use Rattle.mk_edit.specs.Planned.{IsRefusal, IsUnrefused}
use Rattle.mk_edit.specs.SwitchPlans.{IsSwitch, StandsAt}
use Rattle.mk_edit.proofs.on_plans.CausePlans.{addressed-all, long-said, never-long}
use Rattle.mk_edit.proofs.on_plans.LinePlans.{IsReplaced, line-replaced}
use Rattle.mk_edit_parts.proofs.on_new_lines.NewLinePlaces.{found-place}

-- What the code asks of a document if a line is switched, and what follows from the answers.
pub record IsSwitchOf (w : Switch) (n : List ℕ) (e : Edit) (ls : List LocatedLine) (f : Found) : Type 0 where
  pub spot : StandingLine
  pub within : f.at < length ls
  pub place : IsPlaceOf ls f
  pub stands : StandsAt (classed_lines (located_text ls)) spot f
  pub line_is : (l : LocatedLine) → Some l ≡ slice_get ls f.at → l.bytes ≡ spot.line.bytes
  pub unread : size_of ls ≤ max_text → w ≡ Uncomment → is_switch_misread w n spot ≡ true → spans (located_text ls) e ≡ Err Misread
  pub leaned : is_switch_misread w n spot ≡ false → leans_on_assignment spot ≡ true → spans (located_text ls) e ≡ Err Leans
  pub long : w ≡ CommentOut → leans_on_assignment spot ≡ false → size_of ls ≡ max_text → spans (located_text ls) e ≡ Err TooLong
  pub taken : is_switch_misread w n spot ≡ false → leans_on_assignment spot ≡ false → size_of ls ≤ max_text → (w ≡ CommentOut → size_of ls < max_text)
      → spans (located_text ls) e ≡ Ok (spans_of (located_text ls) (classed_lines (located_text ls)) e)
  pub replaced : (m : List ℕ) → is_switch_misread w n spot ≡ false → leans_on_assignment spot ≡ false → size_of ls ≤ max_text → (w ≡ CommentOut → size_of ls < max_text)
      → m ≡ line_switched w spot.line.bytes → IsReplaced e ls f.at m

switch : (w : Switch) (nth : Option ℕ) (n : List ℕ) (ls : List LocatedLine) (f : Found) → IsFaithful ls → IsFoundAt (classed_lines (located_text ls)) (switch_address w nth n) f → IsAddressed (SwitchLine w nth n) ls f → IsSwitchOf w n (SwitchLine w nth n) ls f
switch w nth n ls f h F A = record {
  spot = s;
  within = L.within;
  place = found-place ls (switch_address w nth n) f F;
  stands = record { whole = L.lines; place_is = F.place_is; context_is = F.context_is };
  line_is = λ l k. let q : Some l ≡ Some (located_line s.line) = k ∙ L.line_is in let i : l ≡ located_line s.line = cc in ap (λ (z : LocatedLine). z.bytes) i;
  unread = λ z i m. refused t e Misread (addressed-all e ls f (Some Misread) A (causes true (leans_on_assignment s) m refl ∙ passed (too_long t rs) _ (Some Misread) (short z i) (holds (misread cs e) [] Misread (misread-is ∙ ap (λ b. where_holds b Misread) m))));
  leaned = λ m k. refused t e Leans (addressed-all e ls f (Some Leans) A (causes false true m k));
  long = λ i k z.
      refused t e TooLong (addressed-all e ls f (Some TooLong) A
      (causes (is_switch_misread w n s) false refl k ∙ (unlean (is_switch_misread w n s) ∙ holds (too_long t rs) _ TooLong (long-is i ∙ ap (λ b. where_holds b TooLong) (lt-ltb (max_text + 0) (length t + 1) (omega (arith, z, size_of-text ls)))))));
  taken = accepted;
  replaced = λ m a b c d i.
      line-replaced e ls rs s f.at m h (accepted a b c d) (ap (option_map this_line) F.found_is) F.place_is (ap (λ z. z ∷ []) (bytes ∙ sym i));
}
  where
    t : List ℕ
    t = located_text ls

    cs : List ClassedLine
    cs = classed_lines t

    e : Edit
    e = SwitchLine w nth n

    rs : List Replacement
    rs = spans_of t cs e

    s : StandingLine
    s = F.spot

    L : IsLineAt ls f s
    L = line-at ls (switch_address w nth n) f h F

    spans_are : rs ≡ switch_spans w s
    spans_are = ap (where_found (switch_spans w)) F.found_is

    lean-is : (m b : Bool) → is_switch_misread w n s ≡ m → leans_on_assignment s ≡ b → leaning cs e ≡ where_holds (not m && b) Leans
    lean-is m b h k =
        ap (λ o. where_holds (switch_leans w n o || (false || false)) Leans) F.found_is
        ∙ (ap (λ z. where_holds z Leans) (or-false (not (is_switch_misread w n s) && leans_on_assignment s)) ∙ (ap (λ z. where_holds (not z && leans_on_assignment s) Leans) h ∙ ap (λ z. where_holds (not m && z) Leans) k))

    misread-is : misread cs e ≡ where_holds (is_switch_misread w n s) Misread
    misread-is = ap (λ (o : Option StandingLine). where_holds (is_found_switch_misread w n o) Misread) F.found_is

    -- the causes that can hold
    causes : (m b : Bool) → is_switch_misread w n s ≡ m → leans_on_assignment s ≡ b
        → first_cause (leaning cs e ∷ too_long t rs ∷ misread cs e ∷ []) ≡ first_cause (where_holds (not m && b) Leans ∷ too_long t rs ∷ misread cs e ∷ [])
    causes m b h k = ap (λ z. first_cause (z ∷ too_long t rs ∷ misread cs e ∷ [])) (lean-is m b h k)

    unlean : (m : Bool) → first_cause (where_holds (not m && false) Leans ∷ too_long t rs ∷ misread cs e ∷ []) ≡ first_cause (too_long t rs ∷ misread cs e ∷ [])
    unlean true = refl
    unlean false = refl

    -- a mark that is taken out puts no bytes in
    put-none : w ≡ Uncomment → bytes_put rs ≡ 0
    put-none i = ap bytes_put spans_are ∙ ap (λ v. bytes_put (replacements (length (text_of s.above)) (switch_pieces v s.line.bytes))) i

    short : size_of ls ≤ max_text → w ≡ Uncomment → too_long t rs ≡ None
    short z i = never-long t e (put-none i) (omega (arith, z, size_of-text ls))

    put-one : w ≡ CommentOut → bytes_put rs ≡ 1
    put-one i = ap bytes_put spans_are ∙ ap (λ v. bytes_put (replacements (length (text_of s.above)) (switch_pieces v s.line.bytes))) i

    taken-none : w ≡ CommentOut → bytes_taken rs ≡ 0
    taken-none i = ap bytes_taken spans_are ∙ (ap (λ v. bytes_taken (replacements (length (text_of s.above)) (switch_pieces v s.line.bytes))) i ∙ omega arith)

    long-is : w ≡ CommentOut → too_long t rs ≡ where_holds (nat_lt (max_text + 0) (length t + 1)) TooLong
    long-is i = long-said t e 0 1 (taken-none i) (put-one i)

    fits : (v : Switch) → w ≡ v → size_of ls ≤ max_text → (w ≡ CommentOut → size_of ls < max_text) → too_long t rs ≡ None
    fits Uncomment i z few = short z i
    fits CommentOut i z few = let k = few i in long-is i ∙ ap (λ b. where_holds b TooLong) (le-ltb (max_text + 0) (length t + 1) (omega (arith, k, size_of-text ls)))

    accepted : is_switch_misread w n s ≡ false → leans_on_assignment s ≡ false → size_of ls ≤ max_text → (w ≡ CommentOut → size_of ls < max_text) → spans t e ≡ Ok rs
    accepted m k z few =
        unrefused t e
        (addressed-all e ls f None A
        (causes false false m k ∙ passed (too_long t rs) _ None (fits w refl z few) (passed (misread cs e) [] None (misread-is ∙ ap (λ b. where_holds b Misread) m) refl)))

    bytes : respanned_bytes (this_line s) rs ≡ line_switched w s.line.bytes
    bytes =
        let l = s.line.bytes in
        ap (respanned_bytes (this_line s)) spans_are
        ∙ (respanned-pieces (this_line s) (switch_pieces w l) (switch_rest w l) (append-nil l ∙ sym (switch-old w l)) ∙ sym (switch-new w l))

pub switch-of : (w : Switch) (n : List ℕ) (e : Edit) (ls : List LocatedLine) (f : Found) → IsFaithful ls → IsSwitch w n e → IsAddressed e ls f → IsSwitchOf w n e ls f
switch-of w n e ls f h K A =
    let B = subst (λ z. IsAddressed z ls f) K.is A in
    subst (λ z. IsSwitchOf w n z ls f) (sym K.is) (switch w K.nth n ls f h B.meant B)

-- ---- the lines below

pub leans-told : (ls : List LocatedLine) (s : StandingLine) (f : Found) → IsFaithful ls → StandsAt (classed_lines (located_text ls)) s f
    → (not (is_same_flag f.context.flag Off) && is_led_first_located f.context.prefix (drop (f.at + 1) ls)) ≡ leans_on_assignment s
leans-told ls s f h S =
    let P = line-there ls s f h S in
    ap (λ z. not (is_same_flag f.context.flag Off) && z) (ap (is_led_first_located f.context.prefix) P ∙ led_first-located f.context.prefix s.below)
    ∙ ap (λ (c : Context). leans c.prefix c.flag Off s.below) (sym S.context_is)
  where
    line-there : (ls : List LocatedLine) (s : StandingLine) (f : Found) → IsFaithful ls → StandsAt (classed_lines (located_text ls)) s f → drop (f.at + 1) ls ≡ located_lines s.below
    line-there ls s f h S =
        let A = located_lines s.above in
        let B = located_lines s.below in
        let shown : ls ≡ A ++ located_line s.line ∷ B = h ∙ (ap located_lines S.whole ∙ map-append located_line s.above (s.line ∷ s.below)) in
        let n : f.at ≡ length A = sym S.place_is ∙ sym (length-map s.above located_line) in
        ap (drop (f.at + 1)) shown ∙ (ap (λ n. drop (n + 1) (A ++ located_line s.line ∷ B)) n ∙ drop-append-add A (located_line s.line ∷ B) 1)

-- ---- the bytes of the new line

pub commented : (l m : List ℕ) → m ≡ take 0 l ++ ((35 ∷ []) ++ drop 0 l) → m ≡ line_switched CommentOut l
commented l m h = h ∙ sym (switch-new CommentOut l)

-- the range of the mark, and the line without it
pub record IsMarkAt (l : List ℕ) (r : Span) : Type 0 where
  pub rises : r.start ≤ r.end
  pub within : r.end ≤ length l
  pub without : (m : List ℕ) → m ≡ take r.start l ++ ([] ++ drop r.end l) → m ≡ line_switched Uncomment l

pub mark-at : (l : List ℕ) (r : Span) → r.start ≡ length (leading is_blank_byte l) → r.end ≡ r.start + length (comment_mark l) → IsMarkAt l r
mark-at l r s e =
    let A = leading is_blank_byte l in
    let M = comment_mark l in
    let Z = switch_rest Uncomment l in
    let bytes : raw_text (map Byte A) ++ (raw_text (map Byte M) ++ []) ≡ A ++ M =
    ap (λ z. z ++ (raw_text (map Byte M) ++ [])) (raw_text-bytes A) ∙ ap (λ z. A ++ z) (append-nil (raw_text (map Byte M)) ∙ raw_text-bytes M) in
    let whole : l ≡ (A ++ M) ++ Z = sym (switch-old Uncomment l) ∙ ap (λ z. z ++ Z) bytes in
    let front : take r.start l ≡ A = ap (take r.start) (whole ∙ append_assoc A M Z) ∙ (ap (λ n. take n (A ++ (M ++ Z))) s ∙ take-append_seam A (M ++ Z)) in
    let both : r.end ≡ length (A ++ M) = omega (arith, e, s, length-append A M) in
    let back : drop r.end l ≡ Z = ap (drop r.end) whole ∙ (ap (λ n. drop n ((A ++ M) ++ Z)) both ∙ drop-append_seam (A ++ M) Z) in
    let new : line_switched Uncomment l ≡ A ++ Z = switch-new Uncomment l ∙ ap (λ z. z ++ Z) (append-nil (raw_text (map Byte A)) ∙ raw_text-bytes A) in
    record {
      rises = omega (arith, e);
      within = omega (arith, both, ap length whole, length-append (A ++ M) Z);
      without = λ m h. h ∙ (ap (λ z. z ++ drop r.end l) front ∙ (ap (λ z. A ++ z) back ∙ sym new));
    }

-- whether the new line is misread, by the line that was made
pub unfit : (n : List ℕ) (s : StandingLine) (m : List ℕ) → m ≡ line_switched Uncomment s.line.bytes → fits_line s.line.bytes m ≡ false → is_switch_misread Uncomment n s ≡ true
unfit n s m k h = ap (λ z. not (fits_line s.line.bytes z && assigns n (class_of (context_of s.above) z))) (sym k) ∙ ap (λ z. not (z && assigns n (class_of (context_of s.above) m))) h

pub fit : (n : List ℕ) (s : StandingLine) (x : Context) (m : List ℕ) (b : Bool) → m ≡ line_switched Uncomment s.line.bytes → fits_line s.line.bytes m ≡ true → context_of s.above ≡ x → assigns n (class_of x m) ≡ b → is_switch_misread Uncomment n s ≡ not b
fit n s x m b k h c a =
    ap (λ z. not (fits_line s.line.bytes z && assigns n (class_of (context_of s.above) z))) (sym k)
    ∙ (ap (λ z. not (z && assigns n (class_of (context_of s.above) m))) h ∙ (ap (λ z. not (assigns n (class_of z m))) c ∙ ap not a))

-- ---- the new line, read

pub read-classed : (x : Context) (m : List ℕ) (l : LocatedLine) → l ≡ located_line (line_in x m) → IsClassed l
read-classed x m l h = subst IsClassed (sym h) (record { context = x; class_is = refl })

pub read-assigns : (n : List ℕ) (x : Context) (m : List ℕ) (l : LocatedLine) → l ≡ located_line (line_in x m) → assigns_located n l ≡ assigns n (class_of x m)
read-assigns n x m l h = ap (assigns_located n) h ∙ assigns-located n x (line_in x m) refl

-- ---- where a growth was refused

unrefused-yet : (n : List ℕ) (nth : Option ℕ) (ls : List LocatedLine) (f : Found) → (U : IsSwitchOf Uncomment n (SwitchLine Uncomment nth n) ls f) → size_of ls ≤ max_text → IsUnrefused (located_text ls) (SwitchLine Uncomment nth n)
unrefused-yet n nth ls f U z = go (is_switch_misread Uncomment n U.spot) refl (leans_on_assignment U.spot) refl
  where
    go : (m : Bool) → is_switch_misread Uncomment n U.spot ≡ m → (b : Bool) → leans_on_assignment U.spot ≡ b → IsUnrefused (located_text ls) (SwitchLine Uncomment nth n)
    go true h b k = inr (inl (U.unread z refl h))
    go false h true k = inr (inr (tt, U.leaned h k))
    go false h false k = inl (_, U.taken h k z (λ i. absurd (cc)))

pub memory-there : (n : List ℕ) (e : Edit) (ls : List LocatedLine) (f : Found) → IsSwitch Uncomment n e → IsSwitchOf Uncomment n e ls f → size_of ls ≤ max_text → IsRefusal (located_text ls) e NoMemory
memory-there n e ls f K U z =
    inr (refl, subst (IsUnrefused (located_text ls)) (sym K.is) (unrefused-yet n K.nth ls f (subst (λ x. IsSwitchOf Uncomment n x ls f) K.is U) z))

-- a refusal when the new line was read: a growth was refused, or it is no assignment of the name
pub read-refused : (n : List ℕ) (e : Edit) (ls : List LocatedLine) (f : Found) (m : List ℕ) (r : Refusal) → IsSwitch Uncomment n e → (U : IsSwitchOf Uncomment n e ls f) → size_of ls ≤ max_text
    → m ≡ line_switched Uncomment U.spot.line.bytes → fits_line U.spot.line.bytes m ≡ true → (r ≡ NoMemory) ⊎ ((r ≡ Misread) × (assigns n (class_of f.context m) ≡ false)) → IsRefusal (located_text ls) e r
read-refused n e ls f m r K U z k h (inl i) = subst (IsRefusal (located_text ls) e) (sym i) (memory-there n e ls f K U z)
read-refused n e ls f m r K U z k h (inr i) = inl (U.unread z refl (fit n U.spot f.context m false k h U.stands.context_is i.1) ∙ ap Err (sym i.0))
