-- A walk over lines of a document for an edit of several lines: what it has found and noted so far, with what it finds and notes among
-- the lines ahead, is what is to be found and noted.
use Rattle.std.proofs.Common.{◌≡◌, refl, sym, ap, ◌∙◌, subst, arith, ℕ, ◌+◌, ◌<◌, ◌≤◌, Bool, true, false, List, [], ◌∷◌, ◌++◌, append-nil, append_assoc, drop, take, length, length-append, map, Option, Some, None, option_map}
use Rattle.std.specs.Prelude.{IfSome, nat_lt, if◌then◌else◌, ◌^◌, ◌-◌}
use Rattle.std.proofs.lemmas.List.{map-append, take-append-drop}
use Rattle.mk_lines.specs.Limits.{max_text}
use Rattle.mk_lines.specs.Cells.{joined_byte}
use Rattle.mk_class.specs.ClassTable.{class_of}
use Rattle.mk_class.specs.ClassedLines.{ClassedLine, classed_lines}
use Rattle.mk_class.specs.Contexts.{Admits, Context, context_after, context_after_located}
use Rattle.mk_class.specs.LocatedClasses.{located_class}
use Rattle.mk_tree.specs.Admissions.{AreAdmitted}
use Rattle.mk_tree.specs.Documents.{IsFaithful}
use Rattle.mk_tree.specs.LocatedLines.{LocatedLine, located_line, located_lines, located_text, size_of}
use Rattle.mk_tree.proofs.on_documents.LinesInText.{AreClassed, AreClassed-class, AreClassed-tail, AreClassed-lines}
use Rattle.mk_edit_language.specs.Addresses.{Address, each_address}
use Rattle.mk_edit_language.specs.EachLine.{each_change}
use Rattle.mk_edit_language.specs.Edits.{EachEdit}
use Rattle.mk_edit_parts.specs.EachLineWalks.{is_meant_located, reach_after, reach_by, stays_located}
use Rattle.mk_edit_parts.specs.LocatedParts.{IsClassed}
use Rattle.mk_edit_parts.specs.Seeking.{may_mean}
use Rattle.mk_edit_parts.specs.Windows.{below, below_all, first_place}
use Rattle.mk_edit_parts.specs.declared.each_line.Reach.{Reach}
use Rattle.mk_edit_parts.specs.declared.seek.Found.{Found}
use Rattle.mk_edit_parts.proofs.on_finding.WindowLemmas.{IsPassed, below_all-at, passed-by, passed-one}
use Rattle.mk_edit.specs.EachLineSurveys.{IsCountable, IsOfLines, IsOwnLine, IsSurveyedTo, NotedLine, found_by, found_with, findings_on, gets_longer, no_places, noted_from, noted_line, noted_lines, noted_view, places_counted, places_meant}
use Rattle.mk_edit.specs.declared.each_line_count.PlaceCount.{PlaceCount}
use Rattle.mk_edit.specs.declared.each_line_notes.Noted.{Noted}
use Rattle.mk_edit.specs.declared.each_line_survey.Findings.{Findings}
use Rattle.mk_edit.proofs.on_each_lines.LinesCounted.{own-bytes}
use Rattle.mk_edit.proofs.on_each_lines.LinesOwned.{meant-own}

-- ---- the notes

-- with the notes of the lines ahead, notes are all; they may have been dropped
abbrev AreNotes : {A : _} {X : Type 0} (items : X → List (Noted A)) → (notes : Option X) → (ahead all : List NotedLine) → Type 0
AreNotes items notes ahead all = IfSome notes (λ p. map noted_view (items p) ++ ahead ≡ all)

pub notes-kept : {A : _} {X : Type 0} (items : X → List (Noted A)) (notes : Option X) (ahead left all : List NotedLine) → ahead ≡ left → AreNotes items notes ahead all → AreNotes items notes left all
notes-kept items None ahead left all h k = tt
notes-kept items (Some p) ahead left all h k = ap (λ z. map noted_view (items p) ++ z) (sym h) ∙ k

notes-more : {A : _} {X : Type 0} (items : X → List (Noted A)) (before after : Option X) (n : Noted A) (ahead left all : List NotedLine) → ahead ≡ noted_view n ∷ left → IfSome after (λ q. Some (items q) ≡ option_map (λ p. items p ++ n ∷ []) before)
    → AreNotes items before ahead all → AreNotes items after left all
notes-more items before None n ahead left all h w k = tt
notes-more items None (Some q) n ahead left all h w k = absurd (cc)
notes-more items (Some p) (Some q) n ahead left all h w k =
    let i : items q ≡ items p ++ n ∷ [] = cc in
    let noted : List NotedLine = map noted_view (items p) in
    ap (λ z. z ++ left) (ap (map noted_view) i ∙ map-append noted_view (items p) (n ∷ [])) ∙ (append_assoc noted (noted_view n ∷ []) left ∙ (ap (λ z. noted ++ z) (sym h) ∙ k))

pub notes-all : {A : _} {X : Type 0} (items : X → List (Noted A)) (notes : Option X) (ahead all : List NotedLine) → ahead ≡ [] → AreNotes items notes ahead all → IfSome notes (λ p. map noted_view (items p) ≡ all)
notes-all items None ahead all s k = tt
notes-all items (Some p) ahead all s k = sym (append-nil (map noted_view (items p))) ∙ (ap (λ z. map noted_view (items p) ++ z) (sym s) ∙ k)

abbrev with_length : ℕ → Context → LocatedLine → Bool → NotedLine
with_length at x l b = record { place = record { at = at; context = x }; line = l; is_longer = b }

-- a note, by whether the line becomes longer
pub noted-by : (at : ℕ) (x : Context) (l : LocatedLine) (q : PlaceCount) (b : Bool) → b ≡ gets_longer q → with_length at x l b ≡ noted_line at x l q
noted-by at x l q b h = ap (with_length at x l) h

-- a line more is at most one more that the address may mean
reach-few : (a : Option Address) (b s : Bool) (r : Reach) → (reach_by a b s r).count ≤ r.count + 1
reach-few a true s r = omega arith
reach-few a false s r = omega arith

-- ---- the lines ahead

-- the first of the lines ahead, as it is defined
record IsAhead (x : Context) (l : LocatedLine) (left : List LocatedLine) : Type 0 where
  line : ClassedLine
  rest : List ClassedLine
  line_is : l ≡ located_line line
  left_is : left ≡ located_lines rest
  class_is : class_of x line.bytes ≡ line.class
  classed : AreClassed (context_after x line.class) rest

ahead-first : (x : Context) (l : LocatedLine) (left : List LocatedLine) (ks : List ClassedLine) → l ∷ left ≡ located_lines ks → AreClassed x ks → IsAhead x l left
ahead-first x l left [] s c = absurd (cc)
ahead-first x l left (k ∷ ks) s c = record { line = k; rest = ks; line_is = cc; left_is = cc; class_is = AreClassed-class x k ks c; classed = AreClassed-tail x k ks c }

-- lines that are classed, below some of them
record AreClassedFrom (x : Context) (ls : List LocatedLine) : Type 0 where
  rest : List ClassedLine
  lines_are : ls ≡ located_lines rest
  classed : AreClassed x rest

classed-below : (f : Found) (ks : List ClassedLine) (xs ys : List LocatedLine) → located_lines ks ≡ xs ++ ys → AreClassed f.context ks → AreClassedFrom (below_all f xs).context ys
classed-below f ks [] ys s h = record { rest = ks; lines_are = sym s; classed = h }
classed-below f ks (l ∷ xs) ys s h =
    let P = ahead-first f.context l (xs ++ ys) ks (sym s) h in
    let after : context_after f.context P.line.class ≡ context_after_located f.context l.class = ap (λ (z : LocatedLine). context_after_located f.context z.class) (sym P.line_is) in
    classed-below (below f l) P.rest xs ys (sym P.left_is) (subst (λ (z : Context). AreClassed z P.rest) after P.classed)

-- ---- the walk

module _ {A : _} {X : Type 0} (items : X → List (Noted A)) (e : EachEdit) (d : List LocatedLine) where
  -- A walk that has come to a place, and what it has found and noted.
  pub record IsWalkedTo (at : ℕ) (x : Context) (ahead : List LocatedLine) (f : Findings) (notes : Option X) : Type 0 where
    pub passed : IsPassed d first_place (record { at = at; context = x }) ahead
    pub rest : List ClassedLine
    pub ahead_is : ahead ≡ located_lines rest
    pub classed : AreClassed x rest
    pub admitted : AreAdmitted x ahead
    pub number : at + length ahead ≡ length d
    pub few_lines : f.lines ≤ at
    pub few_passed : f.reach.count ≤ at
    pub few_put : f.put ≤ 2 ^ 64 - 1
    pub room : f.taken + size_of ahead ≤ max_text
    pub findings_are : found_with e f ahead ≡ findings_on e d
    pub notes_are : AreNotes items notes (noted_from e f.reach at x ahead) (noted_lines e d)

  pub walked-first : (p : Found) (ahead : List LocatedLine) (f : Findings) (notes : Option X) → ahead ≡ drop p.at d → IsFaithful d → AreAdmitted p.context (drop p.at d) → IsSurveyedTo e d p f items notes → IsWalkedTo p.at p.context ahead f notes
  walked-first p ahead f notes s h admitted S =
      let above : List LocatedLine = take p.at d in
      let left : List LocatedLine = drop p.at d in
      let parted : d ≡ above ++ left = sym (take-append-drop p.at d) in
      let C = classed-below first_place (classed_lines (located_text d)) above left (sym h ∙ parted) (AreClassed-lines (located_text d) (classed_lines (located_text d)) refl) in
      rw s (record {
        passed = record { passed = above; from_is = parted; now_is = S.place_is };
        rest = C.rest;
        ahead_is = C.lines_are;
        classed = subst (λ (z : Found). AreClassed z.context C.rest) (sym S.place_is) C.classed;
        admitted = admitted;
        number = omega (arith, ap (λ (z : Found). z.at) S.place_is, below_all-at first_place above, ap length parted, length-append above left);
        few_lines = S.few_lines;
        few_passed = S.few_passed;
        few_put = S.few_put;
        room = S.room;
        findings_are = S.findings_are;
        notes_are = S.notes_are;
      })

  -- A line that is handed out, and the walk after it.
  pub record IsLineWalked (at : ℕ) (x : Context) (l : LocatedLine) (left : List LocatedLine) (f : Findings) (notes : Option X) : Type 0 where
    pub classed : IsClassed l
    pub admits : Admits x l.class
    pub here : at < length d
    pub few_lines : f.lines ≤ at
    pub few_passed : f.reach.count ≤ at
    pub can : is_meant_located e f.reach l ≡ true → IsCountable (each_change e) l
    pub room : f.taken + (places_meant e f.reach l).bytes ≤ max_text
    pub kept : (a : Context) (q : PlaceCount) (g : Findings) → a ≡ context_after_located x l.class → q ≡ places_meant e f.reach l → g ≡ found_by e l q f → nat_lt 0 q.count ≡ false → IsWalkedTo (at + 1) a left g notes
    pub more : (a : Context) (q : PlaceCount) (g : Findings) (n : Noted A) (after : Option X) → a ≡ context_after_located x l.class → q ≡ places_meant e f.reach l → g ≡ found_by e l q f → nat_lt 0 q.count ≡ true
        → noted_view n ≡ noted_line at x l q → IfSome after (λ r. Some (items r) ≡ option_map (λ p. items p ++ n ∷ []) notes) → IsWalkedTo (at + 1) a left g after

  pub line-walked : IsOfLines e → (at : ℕ) (x : Context) (l : LocatedLine) (ahead left : List LocatedLine) (f : Findings) (notes : Option X) → ahead ≡ l ∷ left → IsWalkedTo at x ahead f notes → IsLineWalked at x l left f notes
  line-walked o at x l ahead left f notes s W = record {
    classed = record { context = x; class_is = ap (λ (z : LocatedLine). z.class) P.line_is ∙ ap (located_class joined_byte) (sym class) };
    admits = each-admitted.0;
    here = omega (arith, W.number, ap length s);
    few_lines = W.few_lines;
    few_passed = W.few_passed;
    can = λ t. record { context = x; own = own t; short = omega (arith, W.room, ap size_of s) };
    room = room-here (is_meant_located e f.reach l) refl;
    kept = λ a q g k i j n. on a q g notes k i j (notes-kept items notes _ (noted_from e g.reach (at + 1) a left) (noted_lines e d) (ahead-are a q g false k i j n) W.notes_are);
    more = λ a q g n after k i j v u w.
        on a q g after k i j (notes-more items notes after n _ (noted_from e g.reach (at + 1) a left) (noted_lines e d) (ahead-are a q g true k i j v ∙ ap (λ (z : NotedLine). z ∷ noted_from e g.reach (at + 1) a left) (sym u)) w W.notes_are);
  }
    where
      P : IsAhead x l left
      P = ahead-first x l left W.rest (sym s ∙ W.ahead_is) W.classed

      -- the class of the line, by its bytes
      class : class_of x l.bytes ≡ P.line.class
      class = ap (λ (z : LocatedLine). class_of x z.bytes) P.line_is ∙ P.class_is

      each-admitted : AreAdmitted x (l ∷ left)
      each-admitted = subst (AreAdmitted x) s W.admitted

      own : is_meant_located e f.reach l ≡ true → IsOwnLine (each_change e) x l
      own t =
          subst (λ (z : LocatedLine). IsOwnLine (each_change e) x z) (sym P.line_is) (meant-own e f.reach x P.line P.class_is o (ap (is_meant_located e f.reach) (sym P.line_is) ∙ t))

      room-here : (b : Bool) → is_meant_located e f.reach l ≡ b → f.taken + (if b then places_counted (each_change e) l else no_places).bytes ≤ max_text
      room-here true t = omega (arith, W.room, ap size_of s, own-bytes (each_change e) x l (own t))
      room-here false t = omega (arith, W.room)

      here-bytes : (places_meant e f.reach l).bytes ≤ length l.bytes
      here-bytes = go (is_meant_located e f.reach l) refl
        where
          go : (b : Bool) → is_meant_located e f.reach l ≡ b → (if b then places_counted (each_change e) l else no_places).bytes ≤ length l.bytes
          go true t = own-bytes (each_change e) x l (own t)
          go false t = omega arith

      -- the notes of the lines ahead, by whether the first of them is changed
      with_here : PlaceCount → Bool → List NotedLine → List NotedLine
      with_here q b ns = if b then noted_line at x l q ∷ ns else ns

      ahead-are : (a : Context) (q : PlaceCount) (g : Findings) (b : Bool) → a ≡ context_after_located x l.class → q ≡ places_meant e f.reach l → g ≡ found_by e l q f → nat_lt 0 q.count ≡ b
          → noted_from e f.reach at x ahead ≡ with_here q b (noted_from e g.reach (at + 1) a left)
      ahead-are a q g b k i j n =
          let below : noted_from e (reach_after e l f.reach) (at + 1) (context_after_located x l.class) left ≡ noted_from e g.reach (at + 1) a left =
          ap (λ (z : Reach). noted_from e z (at + 1) (context_after_located x l.class) left) (sym (ap (λ (z : Findings). z.reach) j)) ∙ ap (λ (z : Context). noted_from e g.reach (at + 1) z left) (sym k) in
          ap (noted_from e f.reach at x) s
          ∙ (ap (λ (z : PlaceCount). with_here z (nat_lt 0 z.count) (noted_from e (reach_after e l f.reach) (at + 1) (context_after_located x l.class) left)) (sym i)
          ∙ (ap (λ z. with_here q z (noted_from e (reach_after e l f.reach) (at + 1) (context_after_located x l.class) left)) n ∙ ap (with_here q b) below))

      few-on : (b : Bool) → (if b then f.lines + 1 else f.lines) ≤ at + 1
      few-on true = omega (arith, W.few_lines)
      few-on false = omega (arith, W.few_lines)

      on : (a : Context) (q : PlaceCount) (g : Findings) (more : Option X) → a ≡ context_after_located x l.class → q ≡ places_meant e f.reach l → g ≡ found_by e l q f
          → AreNotes items more (noted_from e g.reach (at + 1) a left) (noted_lines e d) → IsWalkedTo (at + 1) a left g more
      on a q g more k i j w =
          let after : context_after x P.line.class ≡ a = ap (λ (z : LocatedLine). context_after_located x z.class) (sym P.line_is) ∙ sym k in
          record {
            passed = passed-one d first_place (record { at = at; context = x }) (record { at = at + 1; context = a }) ahead left l s (ap (λ (z : Context). record { at = at + 1; context = z }) k) W.passed;
            rest = P.rest;
            ahead_is = P.left_is;
            classed = subst (λ (z : Context). AreClassed z P.rest) after P.classed;
            admitted = subst (λ (z : Context). AreAdmitted z left) (sym k) each-admitted.1;
            number = omega (arith, W.number, ap length s);
            few_lines = subst (λ (z : Findings). z.lines ≤ at + 1) (sym j) (few-on (nat_lt 0 q.count));
            few_passed = omega (arith, ap (λ (z : Findings). z.reach.count) j, reach-few (each_address e) (may_mean (each_address e) l) (stays_located l.class) f.reach, W.few_passed);
            few_put = omega (arith, ap (λ (z : Findings). z.put) j);
            room = omega (arith, ap (λ (z : Findings). z.taken) j, ap (λ (z : PlaceCount). z.bytes) i, here-bytes, W.room, ap size_of s);
            findings_are = ap (λ (z : Findings). found_with e z left) (j ∙ ap (λ (z : PlaceCount). found_by e l z f) i) ∙ (ap (found_with e f) (sym s) ∙ W.findings_are);
            notes_are = w;
          }

  -- where the walk stops
  pub walked-last : (at : ℕ) (x : Context) (ahead : List LocatedLine) (f : Findings) (notes : Option X) → IsWalkedTo at x ahead f notes → IsSurveyedTo e d (record { at = at; context = x }) f items notes
  walked-last at x ahead f notes W =
      let P = passed-by d first_place (record { at = at; context = x }) ahead at (omega arith) W.passed in
      record {
        place_is = P.now_is;
        few_lines = W.few_lines;
        few_passed = W.few_passed;
        few_put = W.few_put;
        room = subst (λ z. f.taken + size_of z ≤ max_text) (sym P.ahead_is) W.room;
        findings_are = ap (found_with e f) P.ahead_is ∙ W.findings_are;
        notes_are = subst (λ z. AreNotes items notes (noted_from e f.reach at x z) (noted_lines e d)) (sym P.ahead_is) W.notes_are;
      }
