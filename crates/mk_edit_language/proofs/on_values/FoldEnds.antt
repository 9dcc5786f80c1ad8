-- A fold whose line end comes last: what the text before that line feed is. This serves for a fold that stays without its next
-- line.
use Rattle.std.proofs.Common.{◌≡◌, refl, sym, ap, ◌∙◌, subst, ℕ, List, [], ◌∷◌, ◌++◌, Bool, true, false, cond}
use Rattle.mk_lines.specs.Lists.{leading, after_leading, Each}
use Rattle.mk_lines.specs.Bytes.{ByteKind, byte_kind, is_blank_kind}
use Rattle.mk_lines.specs.Bytes.ByteKind.{LineFeed, CarriageReturn, Backslash, Blank, Ordinary}
use Rattle.mk_lines.proofs.on_lists.ByteLemmas.{carriage_return-byte, backslash-byte}
use Rattle.mk_lines.specs.Cells.{Cell, Byte, Fold, LfEnd, CrLfEnd, is_blank_cell, raw_text, prepend, cells}
use Rattle.mk_lines.proofs.on_cells.LineOfCells.{after_leading-each}

-- a backslash, or a backslash and a carriage return
abbrev pub escape_cells : (cr : Bool) → List Cell
escape_cells false = Byte 92 ∷ []
escape_cells true = Byte 92 ∷ Byte 13 ∷ []

-- cells that are blanks and folds, and then a backslash that escapes the line end
pub record EndsEscaped (cs : List Cell) : Type 0 where
  pub blanks : List Cell
  pub are_blank : Each is_blank_cell blanks
  pub cr : Bool
  pub is : cs ≡ blanks ++ escape_cells cr

-- what stands before the last line feed, if the cells are a line end with blanks and folds after it: nothing; or a line end, and
-- then the cells of an escape
data BeforeLineFeed (cs : List Cell) : Type 0 where
  none : cs ≡ [] → BeforeLineFeed cs
  more : (r : List ℕ) (cr : Bool) → cs ≡ LfEnd r ∷ escape_cells cr → BeforeLineFeed cs

data BeforeCrLf (cs : List Cell) : Type 0 where
  return : cs ≡ Byte 13 ∷ [] → BeforeCrLf cs
  more' : (r : List ℕ) (cr : Bool) → cs ≡ CrLfEnd r ∷ escape_cells cr → BeforeCrLf cs

-- the first cell is a line end, and blanks and folds follow it
abbrev IsLf : List Cell → Type 0
IsLf (LfEnd r ∷ cs) = Each is_blank_cell cs
IsLf cs = ⊥

abbrev IsCrLf : List Cell → Type 0
IsCrLf (CrLfEnd r ∷ cs) = Each is_blank_cell cs
IsCrLf cs = ⊥

-- what is known of a text, by the cells of it with a line feed after it
record Known (before after : List Cell) : Type 0 where
  escaped : Each is_blank_cell after → EndsEscaped before
  line_feed : IsLf after → BeforeLineFeed before
  crlf : IsCrLf after → BeforeCrLf before

blank-byte_kind : (b : ℕ) (k : ByteKind) → byte_kind b ≡ k → is_blank_cell (Byte b) ≡ is_blank_kind k
blank-byte_kind b k h = ap is_blank_kind h

-- blanks gone from the front of such cells
after_leading-escape : (gs : List Cell) (cr : Bool) → Each is_blank_cell gs → after_leading is_blank_cell (gs ++ escape_cells cr) ≡ escape_cells cr
after_leading-escape [] false h = refl
after_leading-escape [] true h = refl
after_leading-escape (g ∷ gs) cr h = ap (λ b. cond b (after_leading is_blank_cell (gs ++ escape_cells cr)) (g ∷ gs ++ escape_cells cr)) h.0 ∙ after_leading-escape gs cr h.1

-- a blank before such cells
blank-before : (b : ℕ) (gs : List Cell) (cr : Bool) → is_blank_cell (Byte b) ≡ true → Each is_blank_cell gs → EndsEscaped (prepend Blank b (gs ++ escape_cells cr))
blank-before b [] false p h = record { blanks = Byte b ∷ []; are_blank = (p, tt); cr = false; is = refl }
blank-before b [] true p h = record { blanks = Byte b ∷ []; are_blank = (p, tt); cr = true; is = refl }
blank-before b (Byte x ∷ gs) cr p h = record { blanks = Byte b ∷ Byte x ∷ gs; are_blank = (p, h); cr = cr; is = refl }
blank-before b (Fold r ∷ gs) cr p h = record { blanks = Fold (b ∷ r) ∷ gs; are_blank = (refl, h.1); cr = cr; is = refl }
blank-before b (LfEnd r ∷ gs) cr p h = absurd (let z : false ≡ true = h.0 in cc)
blank-before b (CrLfEnd r ∷ gs) cr p h = absurd (let z : false ≡ true = h.0 in cc)

-- no cell that an ordinary byte, a carriage return or a backslash is by itself is blank
none-known : (before : List Cell) (c : Cell) (cs : List Cell) → is_blank_cell c ≡ false → (IsLf (c ∷ cs) → ⊥) → (IsCrLf (c ∷ cs) → ⊥) → Known before (c ∷ cs)
none-known before c cs h i j = record {
  escaped = λ k. absurd (let z : true ≡ false = sym k.0 ∙ h in cc);
  line_feed = λ k. absurd (i k);
  crlf = λ k. absurd (j k);
}

step-blank : (b : ℕ) (before after : List Cell) → byte_kind b ≡ Blank → Known before after → Known (prepend Blank b before) (prepend Blank b after)
step-blank b before after e k = record { escaped = λ h. escaped after h k.escaped; line_feed = λ h. absurd (no_lf after h); crlf = λ h. absurd (no_crlf after h) }
  where
    p : is_blank_cell (Byte b) ≡ true
    p = blank-byte_kind b Blank e

    put : EndsEscaped before → EndsEscaped (prepend Blank b before)
    put s = subst (λ z. EndsEscaped (prepend Blank b z)) (sym s.is) (blank-before b s.blanks s.cr p s.are_blank)

    escaped : (after : List Cell) → Each is_blank_cell (prepend Blank b after) → (Each is_blank_cell after → EndsEscaped before) → EndsEscaped (prepend Blank b before)
    escaped [] h f = put (f tt)
    escaped (Byte x ∷ cs) h f = put (f h.1)
    escaped (Fold r ∷ cs) h f = put (f (refl, h.1))
    escaped (LfEnd r ∷ cs) h f = absurd (let z : false ≡ true = h.1.0 in cc)
    escaped (CrLfEnd r ∷ cs) h f = absurd (let z : false ≡ true = h.1.0 in cc)

    no_lf : (after : List Cell) → IsLf (prepend Blank b after) → ⊥
    no_lf [] h = h
    no_lf (Byte x ∷ cs) h = h
    no_lf (Fold r ∷ cs) h = h
    no_lf (LfEnd r ∷ cs) h = h
    no_lf (CrLfEnd r ∷ cs) h = h

    no_crlf : (after : List Cell) → IsCrLf (prepend Blank b after) → ⊥
    no_crlf [] h = h
    no_crlf (Byte x ∷ cs) h = h
    no_crlf (Fold r ∷ cs) h = h
    no_crlf (LfEnd r ∷ cs) h = h
    no_crlf (CrLfEnd r ∷ cs) h = h

step-backslash : (b : ℕ) (before after : List Cell) → byte_kind b ≡ Backslash → Known before after → Known (prepend Backslash b before) (prepend Backslash b after)
step-backslash b before [] e k = none-known (prepend Backslash b before) (Byte b) [] (blank-byte_kind b Backslash e) (λ x. x) (λ x. x)
step-backslash b before (Byte x ∷ cs) e k = none-known (prepend Backslash b before) (Byte b) (Byte x ∷ cs) (blank-byte_kind b Backslash e) (λ x. x) (λ x. x)
step-backslash b before (Fold r ∷ cs) e k = none-known (prepend Backslash b before) (Byte b) (Fold r ∷ cs) (blank-byte_kind b Backslash e) (λ x. x) (λ x. x)
step-backslash b before (LfEnd r ∷ cs) e k = record { escaped = λ h. put (k.line_feed h.1); line_feed = λ h. absurd h; crlf = λ h. absurd h }
  where
    put : BeforeLineFeed before → EndsEscaped (prepend Backslash b before)
    put (none h) = record { blanks = []; are_blank = tt; cr = false; is = ap (prepend Backslash b) h ∙ ap (λ z. Byte z ∷ []) (backslash-byte b e) }
    put (more s cr h) = record { blanks = Fold (b ∷ s) ∷ []; are_blank = (refl, tt); cr = cr; is = ap (prepend Backslash b) h }
step-backslash b before (CrLfEnd r ∷ cs) e k = record { escaped = λ h. put (k.crlf h.1); line_feed = λ h. absurd h; crlf = λ h. absurd h }
  where
    put : BeforeCrLf before → EndsEscaped (prepend Backslash b before)
    put (return h) = record { blanks = []; are_blank = tt; cr = true; is = ap (prepend Backslash b) h ∙ ap (λ z. Byte z ∷ Byte 13 ∷ []) (backslash-byte b e) }
    put (more' s cr h) = record { blanks = Fold (b ∷ s) ∷ []; are_blank = (refl, tt); cr = cr; is = ap (prepend Backslash b) h }

step-return : (b : ℕ) (before after : List Cell) → byte_kind b ≡ CarriageReturn → Known before after → Known (prepend CarriageReturn b before) (prepend CarriageReturn b after)
step-return b before [] e k = none-known (prepend CarriageReturn b before) (Byte b) [] (blank-byte_kind b CarriageReturn e) (λ x. x) (λ x. x)
step-return b before (Byte x ∷ cs) e k = none-known (prepend CarriageReturn b before) (Byte b) (Byte x ∷ cs) (blank-byte_kind b CarriageReturn e) (λ x. x) (λ x. x)
step-return b before (Fold r ∷ cs) e k = none-known (prepend CarriageReturn b before) (Byte b) (Fold r ∷ cs) (blank-byte_kind b CarriageReturn e) (λ x. x) (λ x. x)
step-return b before (CrLfEnd r ∷ cs) e k = none-known (prepend CarriageReturn b before) (Byte b) (CrLfEnd r ∷ cs) (blank-byte_kind b CarriageReturn e) (λ x. x) (λ x. x)
step-return b before (LfEnd r ∷ cs) e k = record { escaped = λ h. absurd (let z : false ≡ true = h.0 in cc); line_feed = λ h. absurd h; crlf = λ h. put (k.line_feed h) }
  where
    put : BeforeLineFeed before → BeforeCrLf (prepend CarriageReturn b before)
    put (none h) = return (ap (prepend CarriageReturn b) h ∙ ap (λ z. Byte z ∷ []) (carriage_return-byte b e))
    put (more s cr h) = more' (b ∷ s) cr (ap (prepend CarriageReturn b) h)

step-line_feed : (b : ℕ) (before after : List Cell) → Known before after → Known (prepend LineFeed b before) (prepend LineFeed b after)
step-line_feed b before after k = record { escaped = λ h. absurd (let z : false ≡ true = h.0 in cc); line_feed = λ h. put (k.escaped (after_leading-each after h)); crlf = λ h. absurd h }
  where
    put : EndsEscaped before → BeforeLineFeed (prepend LineFeed b before)
    put s = more (b ∷ raw_text (leading is_blank_cell before)) s.cr
        (ap (λ z. LfEnd (b ∷ raw_text (leading is_blank_cell before)) ∷ z) (ap (after_leading is_blank_cell) s.is ∙ after_leading-escape s.blanks s.cr s.are_blank))

step : (k : ByteKind) (b : ℕ) (before after : List Cell) → byte_kind b ≡ k → Known before after → Known (prepend k b before) (prepend k b after)
step LineFeed b before after e n = step-line_feed b before after n
step CarriageReturn b before after e n = step-return b before after e n
step Backslash b before after e n = step-backslash b before after e n
step Blank b before after e n = step-blank b before after e n
step Ordinary b before after e n = none-known (Byte b ∷ before) (Byte b) after (blank-byte_kind b Ordinary e) (λ x. x) (λ x. x)

known : (x : List ℕ) → Known (cells x) (cells (x ++ 10 ∷ []))
known [] = record { escaped = λ h. absurd (let z : false ≡ true = h.0 in cc); line_feed = λ h. none refl; crlf = λ h. absurd h }
known (b ∷ x) = step (byte_kind b) b (cells x) (cells (x ++ 10 ∷ [])) refl (known x)

-- If the cells of a text with a line feed after it are blanks and folds, such as those of one fold, the text is blanks and folds,
-- and then the backslash that escapes this line end.
pub fold-ends_escaped : (x : List ℕ) → Each is_blank_cell (cells (x ++ 10 ∷ [])) → EndsEscaped (cells x)
fold-ends_escaped x h = (known x).escaped h
