-- Each line of a document has a byte, and so a first physical line that says something.
use Rattle.std.proofs.Common.{arith, refl, sym, subst, ◌≡◌, ℕ, zero, suc, ◌<◌, Bool, true, false, List, [], ◌∷◌, ◌++◌, map, length, length-append, drop}
use Rattle.mk_lines.specs.Bytes.{ByteKind, LineFeed, CarriageReturn, Backslash, Blank, Ordinary, byte_kind}
use Rattle.mk_lines.specs.Lists.{onto_first}
use Rattle.mk_lines.specs.LogicalLines.{before_group, grouped, is_continued, logical_lines}
use Rattle.mk_lines.specs.PhysicalLines.{before_lines, physical_lines, without_line_end}
use Rattle.mk_class.specs.ClassTable.{class_of}
use Rattle.mk_class.specs.ClassedLines.{classed}
use Rattle.mk_class.specs.Contexts.{Context, context_after, start}
use Rattle.mk_tree.specs.Documents.{IsFaithful}
use Rattle.mk_tree.specs.LocatedLines.{LocatedLine, located_lines, located_text}
use Rattle.mk_edit_language.specs.LineRuns.{texts_of}

-- each of some lines has a byte
abbrev pub AreFilled : List LocatedLine → Type 0
AreFilled [] = Unit {0}
AreFilled (l ∷ ls) = (0 < length l.bytes) × AreFilled ls

-- ---- the lines of a text

abbrev HaveBytes : List (List ℕ) → Type 0
HaveBytes [] = Unit {0}
HaveBytes (t ∷ ts) = (0 < length t) × HaveBytes ts

onto-filled : (x : List ℕ) (ts : List (List ℕ)) → 0 < length x → HaveBytes ts → HaveBytes (onto_first x ts)
onto-filled x [] h k = (h, tt)
onto-filled x (t ∷ ts) h k = (omega (arith, h, length-append x t), k.1)

physical-filled : (t : List ℕ) → HaveBytes (physical_lines t)
physical-filled [] = tt
physical-filled (b ∷ t) = go (byte_kind b) (physical-filled t)
  where
    go : (k : ByteKind) → HaveBytes (physical_lines t) → HaveBytes (before_lines k b (physical_lines t))
    go LineFeed h = (omega arith, h)
    go CarriageReturn h = onto-filled (b ∷ []) (physical_lines t) (omega arith) h
    go Backslash h = onto-filled (b ∷ []) (physical_lines t) (omega arith) h
    go Blank h = onto-filled (b ∷ []) (physical_lines t) (omega arith) h
    go Ordinary h = onto-filled (b ∷ []) (physical_lines t) (omega arith) h

grouped-filled : (ts : List (List ℕ)) → HaveBytes ts → HaveBytes (grouped ts)
grouped-filled [] h = tt
grouped-filled (t ∷ ts) h = go (is_continued t) (grouped-filled ts h.1)
  where
    go : (b : Bool) → HaveBytes (grouped ts) → HaveBytes (before_group b t (grouped ts))
    go true k = onto-filled t (grouped ts) h.0 k
    go false k = (h.0, k)

classed-filled : (c : Context) (ts : List (List ℕ)) → HaveBytes ts → AreFilled (located_lines (classed c ts))
classed-filled c [] h = tt
classed-filled c (t ∷ ts) h = (h.0, classed-filled (context_after c (class_of c t)) ts h.1)

pub filled-faithful : (d : List LocatedLine) → IsFaithful d → AreFilled d
filled-faithful d f =
    let lines : HaveBytes (logical_lines (located_text d)) = grouped-filled (physical_lines (located_text d)) (physical-filled (located_text d)) in
    subst AreFilled (sym f) (classed-filled start (logical_lines (located_text d)) lines)

-- ---- some of the lines

pub filled-from : (n : ℕ) (ls : List LocatedLine) → AreFilled ls → AreFilled (drop n ls)
filled-from zero ls h = h
filled-from (suc n) [] h = tt
filled-from (suc n) (l ∷ ls) h = filled-from n ls h.1

pub filled-front : (xs ys : List LocatedLine) → AreFilled (xs ++ ys) → AreFilled xs
filled-front [] ys h = tt
filled-front (l ∷ xs) ys h = (h.0, filled-front xs ys h.1)

-- ---- what a line says

-- the first of some texts, and the others
pub record Front (ts : List (List ℕ)) : Type 0 where
  pub first : List ℕ
  pub rest : List (List ℕ)
  pub texts_are : ts ≡ first ∷ rest

front-onto : (b : ℕ) (ts : List (List ℕ)) → Front (map without_line_end (onto_first (b ∷ []) ts))
front-onto b [] = record { first = without_line_end (b ∷ []); rest = []; texts_are = refl }
front-onto b (t ∷ ts) = record { first = without_line_end (b ∷ t); rest = map without_line_end ts; texts_are = refl }

pub line-front : (bytes : List ℕ) → 0 < length bytes → Front (texts_of bytes)
line-front [] h = absurd (omega arith)
line-front (b ∷ t) h = go (byte_kind b)
  where
    go : (k : ByteKind) → Front (map without_line_end (before_lines k b (physical_lines t)))
    go LineFeed = record { first = without_line_end (b ∷ []); rest = texts_of t; texts_are = refl }
    go CarriageReturn = front-onto b (physical_lines t)
    go Backslash = front-onto b (physical_lines t)
    go Blank = front-onto b (physical_lines t)
    go Ordinary = front-onto b (physical_lines t)
