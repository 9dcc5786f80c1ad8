-- Logical lines among others: lines are taken apart and put together by lists, and a run of them is replaced.
use Rattle.std.proofs.Common.{◌≡◌, refl, sym, ap, ◌∙◌, subst, ℕ, List, [], ◌∷◌, ◌++◌, true}
use Rattle.std.proofs.lemmas.List.{append-nil}
use Rattle.mk_lines.specs.Lists.{concat}
use Rattle.mk_lines.specs.LogicalLines.{logical_lines}
use Rattle.mk_lines.proofs.on_lists.CutLemmas.{recut-first, recut-last, begins-at_piece, pieces-not_empty, pieces-append, concat-pieces_from_start}
use Rattle.mk_lines.proofs.on_lines.LineCut.{LineState, AtStart, InLine, AfterOddRun, AfterOddRunCr, is_at_start, line_step, line_begins, line_pieces, line_continuation, line_state_after, logical_lines-pieces, line_continuation-start}

-- at the start of a line each byte begins a line; a byte that begins a line leads to the same state as at the start of a line
pub begins-always : (b : ℕ) → line_begins AtStart b ≡ true
begins-always b = refl

step-again : (s : LineState) (b : ℕ) → line_begins s b ≡ true → line_step s b ≡ line_step AtStart b
step-again AtStart b h = refl
step-again InLine b h = cc
step-again AfterOddRun b h = cc
step-again AfterOddRunCr b h = cc

pub is_at_start-is : (s : LineState) → is_at_start s ≡ true → s ≡ AtStart
is_at_start-is AtStart h = refl
is_at_start-is InLine h = cc
is_at_start-is AfterOddRun h = cc
is_at_start-is AfterOddRunCr h = cc

-- the logical lines of a text, joined, are the text
pub concat-logical_lines : (t : List ℕ) → concat (logical_lines t) ≡ t
concat-logical_lines t = ap concat (logical_lines-pieces t) ∙ concat-pieces_from_start line_step line_begins AtStart begins-always t

-- ---- lists of lines

-- lines that are the logical lines of their text
unfoldable pub AreLines : List (List ℕ) → Type 0
AreLines ls = line_pieces AtStart (concat ls) ≡ ls

-- a text that is one logical line, by itself
unfoldable pub OneLine : List ℕ → Type 0
OneLine l = line_pieces AtStart l ≡ l ∷ []

-- a text after which a new line begins, whatever follows
unfoldable pub Ends : List ℕ → Type 0
Ends t = line_state_after AtStart t ≡ AtStart

-- a text that lines follow ends
abbrev pub EndsBefore : List ℕ → List (List ℕ) → Type 0
EndsBefore t [] = Unit {0}
EndsBefore t (l ∷ ls) = Ends t

-- a text that ends a line does so before any lines
EndsBefore-any : (t : List ℕ) (ls : List (List ℕ)) → Ends t → EndsBefore t ls
EndsBefore-any t [] h = tt
EndsBefore-any t (l ∷ ls) h = h

-- the logical lines of a text are lines
pub logical_lines-are_lines : (t : List ℕ) → AreLines (logical_lines t)
unfolding AreLines
logical_lines-are_lines t = ap (line_pieces AtStart) (concat-logical_lines t) ∙ sym (logical_lines-pieces t)

-- lines for which `AreLines` holds are the logical lines of their text
pub AreLines-logical : (ls : List (List ℕ)) → AreLines ls → logical_lines (concat ls) ≡ ls
unfolding AreLines
AreLines-logical ls h = logical_lines-pieces (concat ls) ∙ h

pub AreLines-of : (ls : List (List ℕ)) → logical_lines (concat ls) ≡ ls → AreLines ls
unfolding AreLines
AreLines-of ls h = sym (logical_lines-pieces (concat ls)) ∙ h

-- a text is one line if it is its only logical line
pub OneLine-logical : (l : List ℕ) → OneLine l → logical_lines l ≡ l ∷ []
unfolding OneLine
OneLine-logical l h = logical_lines-pieces l ∙ h

pub OneLine-of : (l : List ℕ) → logical_lines l ≡ l ∷ [] → OneLine l
unfolding OneLine
OneLine-of l h = sym (logical_lines-pieces l) ∙ h

-- one line is a list of lines
pub OneLine-are_lines : (l : List ℕ) → OneLine l → AreLines (l ∷ [])
unfolding OneLine AreLines
OneLine-are_lines l h = rw (append-nil l) h

pub AreLines-one_line : (l : List ℕ) → AreLines (l ∷ []) → OneLine l
unfolding OneLine AreLines
AreLines-one_line l h = rw (append-nil l) at h

-- lines taken apart: each part is lines by itself, and the first part ends a line if the second part has a line
pub record AreApart (P Q : List (List ℕ)) : Type 0 where
  pub first : AreLines P
  pub second : AreLines Q
  pub ends : EndsBefore (concat P) Q

-- the lines of a text taken apart
pub lines-apart : (t : List ℕ) (P Q : List (List ℕ)) → logical_lines t ≡ P ++ Q → AreApart P Q
unfolding AreLines Ends
lines-apart t P Q h =
    let e : line_pieces AtStart t ≡ P ++ Q = sym (logical_lines-pieces t) ∙ h in
    let z : line_continuation AtStart t ≡ [] = line_continuation-start t in
    record {
      first = rw z at ((recut-first line_step line_begins AtStart t P Q e).1);
      second = recut-last line_step line_begins AtStart begins-always step-again AtStart t P Q e;
      ends = ends Q e z;
    }
  where
    ends : (Q : List (List ℕ)) → line_pieces AtStart t ≡ P ++ Q → line_continuation AtStart t ≡ [] → EndsBefore (concat P) Q
    ends [] e z = tt
    ends ([] ∷ Q) e z = absurd (pieces-not_empty line_step line_begins AtStart t P Q e)
    ends ((b ∷ q) ∷ Q) e z = is_at_start-is (line_state_after AtStart (concat P)) (rw z at (begins-at_piece line_step line_begins AtStart t P Q b q e))

-- lines put together
pub lines-together : (P Q : List (List ℕ)) → AreLines P → AreLines Q → EndsBefore (concat P) Q → logical_lines (concat P ++ concat Q) ≡ P ++ Q
unfolding AreLines Ends
lines-together P [] p q e = rw (append-nil (concat P), append-nil P) (logical_lines-pieces (concat P) ∙ p)
lines-together P (l ∷ Q) p q e =
    logical_lines-pieces (concat P ++ concat (l ∷ Q))
    ∙ (pieces-append line_step line_begins AtStart begins-always AtStart (concat P) (concat (l ∷ Q)) e ∙ (ap (λ z. z ++ line_pieces AtStart (concat (l ∷ Q))) p ∙ ap (λ z. P ++ z) q))

no_more : (M Y : List (List ℕ)) → M ++ Y ≡ [] → Y ≡ []
no_more [] Y h = h
no_more (m ∷ M) Y h = cc

-- A run of lines replaced by a text: the lines above and below stay. If lines follow the text, it has to end a line. If nothing
-- followed the lines above, and the text has lines of its own, the lines above have to end a line.
pub replace-run : (t : List ℕ) (X M Y : List (List ℕ)) (v : List ℕ) → logical_lines t ≡ X ++ (M ++ Y)
    → (M ++ Y ≡ [] → EndsBefore (concat X) (logical_lines v)) → EndsBefore v Y
    → logical_lines (concat X ++ (v ++ concat Y)) ≡ X ++ (logical_lines v ++ Y)
replace-run t X M Y v h above below =
    let a : AreApart X (M ++ Y) = lines-apart t X (M ++ Y) h in
    let b : AreApart M Y = lines-apart (concat (M ++ Y)) M Y (AreLines-logical (M ++ Y) a.second) in
    let V : concat (logical_lines v) ≡ v = concat-logical_lines v in
    let below' : EndsBefore (concat (logical_lines v)) Y = subst (λ z. EndsBefore z Y) (sym V) below in
    let inner : logical_lines (v ++ concat Y) ≡ logical_lines v ++ Y =
    ap (λ z. logical_lines (z ++ concat Y)) (sym V) ∙ lines-together (logical_lines v) Y (logical_lines-are_lines v) b.second below' in
    let whole : concat (logical_lines v ++ Y) ≡ v ++ concat Y = ap concat (sym inner) ∙ concat-logical_lines (v ++ concat Y) in
    let lines : AreLines (logical_lines v ++ Y) = subst AreLines inner (logical_lines-are_lines (v ++ concat Y)) in
    let above' : EndsBefore (concat X) (logical_lines v ++ Y) = ends (M ++ Y) refl a.ends in
    ap (λ z. logical_lines (concat X ++ z)) (sym whole) ∙ lines-together X (logical_lines v ++ Y) a.first lines above'
  where
    ends : (R : List (List ℕ)) → M ++ Y ≡ R → EndsBefore (concat X) R → EndsBefore (concat X) (logical_lines v ++ Y)
    ends (r ∷ R) e k = EndsBefore-any (concat X) (logical_lines v ++ Y) k
    ends [] e k = rw (no_more M Y e, append-nil (logical_lines v)) (above e)

-- ---- one line among others

-- what stands between others in the lines of a text
pub record Among (X : List (List ℕ)) (l : List ℕ) (Y : List (List ℕ)) : Type 0 where
  pub before : AreLines X
  pub at_start : Ends (concat X)
  pub rest : AreLines Y
  pub one : OneLine l
  pub ends : EndsBefore l Y

-- what is known of a line of a text
pub among : (t : List ℕ) (X : List (List ℕ)) (l : List ℕ) (Y : List (List ℕ)) → logical_lines t ≡ X ++ l ∷ Y → Among X l Y
among t X l Y h =
    let a : AreApart X (l ∷ Y) = lines-apart t X (l ∷ Y) h in
    let b : AreApart (l ∷ []) Y = lines-apart (concat (l ∷ Y)) (l ∷ []) Y (AreLines-logical (l ∷ Y) a.second) in
    record { before = a.first; at_start = a.ends; rest = b.second; one = AreLines-one_line l b.first; ends = rw (append-nil l) at b.ends }
