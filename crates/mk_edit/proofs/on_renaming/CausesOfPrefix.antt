-- Whether a rename makes a line begin with the recipe prefix: a word at the very front of the line is replaced, and the new word
-- begins with the prefix.
use Rattle.std.proofs.Common.{◌≡◌, refl, sym, ap, ◌∙◌, arith, ℕ, ◌+◌, ◌==◌, ◌<◌, ◌&&◌, ◌||◌, false, List, [], ◌∷◌, ◌++◌, length}
use Rattle.std.specs.List.{list_any}
use Rattle.std.proofs.lemmas.Bool.{ne_eqb}
use Rattle.std.proofs.Math.Bool.{and-false}
use Rattle.mk_lines.specs.Cells.{Cell, raw_text}
use Rattle.mk_lines.specs.Pieces.{Piece, Keep, Replace, Replacement, new_bytes, old_bytes, replacements}
use Rattle.mk_lines.specs.declared.split.Span.{Span}
use Rattle.mk_class.specs.RecipePrefix.{is_prefix_led}
use Rattle.mk_class.specs.Classes.{Class}
use Rattle.mk_class.specs.Classes.Class.{Endef, Body, Recipe, Opaque, Blank, Comment, Assign, DefineHead, If, Else, Endif, Directive, TargetAssign, Rough, Header}
use Rattle.mk_class.specs.ClassTable.{class_of}
use Rattle.mk_class.specs.ClassedLines.{ClassedLine, classed_lines}
use Rattle.mk_class.specs.Contexts.{Context, start, context_after}
use Rattle.mk_class.proofs.on_classes.ClassHolds.{HoldsOf, holds-as}
use Rattle.mk_tree.specs.Documents.{IsFaithful}
use Rattle.mk_tree.specs.LocatedLines.{LocatedLine, located_line, located_lines, located_text}
use Rattle.mk_tree.proofs.on_documents.LinesInText.{AreClassed, AreClassed-class, AreClassed-tail, AreClassed-lines}
use Rattle.mk_edit_language.specs.AddressCauses.{begins_renamed_line, begins_some_renamed_line}
use Rattle.mk_edit_language.specs.WordPieces.{is_replaced, renamed_pieces}
use Rattle.mk_edit_parts.specs.RenamedRanges.{is_at_front, renamed_ranges}
use Rattle.mk_edit.specs.RenameTargetEffects.{begins_some_line}
use Rattle.mk_edit_parts.proofs.on_renaming.PieceRanges.{replacing}
use Rattle.mk_edit_parts.proofs.on_renaming.LinePieces.{BeginsWith, line-begins, line-pieces}

-- ---- pieces

-- the start and the text of the first of some replacements, where there is one
first_start : List Replacement → ℕ
first_start [] = 0
first_start (r ∷ rs) = r.start

first_new : List Replacement → List ℕ
first_new [] = []
first_new (r ∷ rs) = r.new

others : List Replacement → List Replacement
others [] = []
others (r ∷ rs) = rs

-- pieces after the front of a line replace no range at the front
after-front : (n : List ℕ) (at : ℕ) (ps : List Piece) (ss : List Span) → 0 < at → replacing n ss ≡ replacements at ps → list_any is_at_front ss ≡ false
after-front n at [] [] h k = refl
after-front n at [] (s ∷ ss) h k = absurd (cc)
after-front n at (Keep cs ∷ ps) ss h k = after-front n (at + length (raw_text cs)) ps ss (omega (arith, h)) k
after-front n at (Replace cs v ∷ ps) [] h k = absurd (cc)
after-front n at (Replace cs v ∷ ps) (s ∷ ss) h k =
    let e : s.start ≡ at = unfold first_start in ap first_start k in
    let r : replacing n ss ≡ replacements (at + length (raw_text cs)) ps = unfold others in ap others k in
    ap (λ b. b || list_any is_at_front ss) (ne_eqb s.start 0 (λ i. absurd (omega (arith, i, e, h)))) ∙ after-front n (at + length (raw_text cs)) ps ss (omega (arith, h)) r

-- Pieces that begin a line; a text replaces some of them, and the old bytes do not begin with the prefix. Some piece is replaced
-- and the new bytes begin with the prefix exactly if the front is replaced and the text begins with the prefix.
pieces-led : (p : ℕ) (n : List ℕ) (ps : List Piece) (ss : List Span) → 0 < length n → replacing n ss ≡ replacements 0 ps → is_prefix_led p (old_bytes ps) ≡ false
    → (list_any is_replaced ps && is_prefix_led p (new_bytes ps)) ≡ (list_any is_at_front ss && is_prefix_led p n)
pieces-led p n [] [] h k f = refl
pieces-led p n [] (s ∷ ss) h k f = absurd (cc)
pieces-led p n (Keep cs ∷ ps) ss h k f = go (raw_text cs) k f (pieces-led p n ps ss h)
  where
    go : (r : List ℕ) → replacing n ss ≡ replacements (0 + length r) ps → is_prefix_led p (r ++ old_bytes ps) ≡ false
        → (replacing n ss ≡ replacements 0 ps → is_prefix_led p (old_bytes ps) ≡ false → (list_any is_replaced ps && is_prefix_led p (new_bytes ps)) ≡ (list_any is_at_front ss && is_prefix_led p n))
        → (list_any is_replaced ps && is_prefix_led p (r ++ new_bytes ps)) ≡ (list_any is_at_front ss && is_prefix_led p n)
    go [] k f ih = ih k f
    go (b ∷ r) k f ih =
        ap (λ z. list_any is_replaced ps && z) f ∙ (and-false (list_any is_replaced ps) ∙ ap (λ z. z && is_prefix_led p n) (sym (after-front n (0 + length (b ∷ r)) ps ss (omega arith) k)))
pieces-led p n (Replace cs v ∷ ps) [] h k f = absurd (cc)
pieces-led p [] (Replace cs v ∷ ps) (s ∷ ss) h k f = absurd (omega (arith, h))
pieces-led p (b ∷ n) (Replace cs v ∷ ps) (s ∷ ss) h k f =
    let e : s.start ≡ 0 = unfold first_start in ap first_start k in
    let w : b ∷ n ≡ v = unfold first_new in ap first_new k in
    ap (λ z. is_prefix_led p (z ++ new_bytes ps)) (sym w) ∙ ap (λ z. ((z == 0) || list_any is_at_front ss) && (b == p)) (sym e)

-- ---- a line

-- what begins a line that does not begin with the prefix does not either
begin-unled : (p : ℕ) (x y l : List ℕ) → l ≡ x ++ y → is_prefix_led p l ≡ false → is_prefix_led p x ≡ false
begin-unled p [] y l e h = refl
begin-unled p (b ∷ x) y l e h = ap (is_prefix_led p) (sym e) ∙ h

-- a line with words to rename does not begin with the prefix in force
line-unled : (c : Context) (l : ClassedLine) (o n : List ℕ) → class_of c l.bytes ≡ l.class → is_prefix_led c.prefix (old_bytes (renamed_pieces o n l.class)) ≡ false
line-unled c l o n h = go l.class (holds-as c l.bytes l.class h) (line-begins c l o n h)
  where
    go : (k : Class Cell) → HoldsOf c l.bytes k → BeginsWith l.bytes (renamed_pieces o n k) → is_prefix_led c.prefix (old_bytes (renamed_pieces o n k)) ≡ false
    go (Header x) s b = begin-unled c.prefix (old_bytes (renamed_pieces o n (Header x))) b.rest l.bytes b.is s.rule.not_led
    go (TargetAssign t) s b = begin-unled c.prefix (old_bytes (renamed_pieces o n (TargetAssign t))) b.rest l.bytes b.is s.rule.not_led
    go (Assign a q) s b = refl
    go Endef s b = refl
    go (Body d) s b = refl
    go Recipe s b = refl
    go Opaque s b = refl
    go Blank s b = refl
    go Comment s b = refl
    go (DefineHead q) s b = refl
    go If s b = refl
    go Else s b = refl
    go Endif s b = refl
    go Directive s b = refl
    go Rough s b = refl

line-led : (c : Context) (l : ClassedLine) (o n : List ℕ) → class_of c l.bytes ≡ l.class → 0 < length n
    → begins_renamed_line c.prefix (renamed_pieces o n l.class) ≡ (list_any is_at_front (renamed_ranges o (located_line l)) && is_prefix_led c.prefix n)
line-led c l o n h k = pieces-led c.prefix n (renamed_pieces o n l.class) (renamed_ranges o (located_line l)) k (line-pieces c l o n h) (line-unled c l o n h)

-- ---- the lines of a document

lines-led : (c : Context) (ls : List ClassedLine) (o n : List ℕ) → AreClassed c ls → 0 < length n → begins_some_renamed_line o n c ls ≡ begins_some_line o n c (located_lines ls)
lines-led c [] o n h k = refl
lines-led c (l ∷ ls) o n h k =
    ap (λ b. b || begins_some_renamed_line o n (context_after c l.class) ls) (line-led c l o n (AreClassed-class c l ls h) k)
    ∙ ap (λ b. (list_any is_at_front (renamed_ranges o (located_line l)) && is_prefix_led c.prefix n) || b) (lines-led (context_after c l.class) ls o n (AreClassed-tail c l ls h) k)

-- A rename of a document makes some line begin with the prefix exactly if a word at the front of a line is replaced by a word
-- that begins with it.
pub rename_target-led : (ls : List LocatedLine) (o n : List ℕ) → IsFaithful ls → 0 < length n → begins_some_renamed_line o n start (classed_lines (located_text ls)) ≡ begins_some_line o n start ls
rename_target-led ls o n h k =
    let ds = classed_lines (located_text ls) in
    lines-led start ds o n (AreClassed-lines (located_text ls) ds refl) k ∙ ap (begins_some_line o n start) (sym h)
