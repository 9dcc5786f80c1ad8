-- The lines of a text, each with its line after a rename: each line can be renamed where it stands, and the lines that hold the
-- word become the lines after the rename.
use Rattle.std.proofs.Common.{◌≡◌, refl, sym, ap, ◌∙◌, subst, arith, ℕ, ◌+◌, ◌<◌, ◌≤◌, Bool, true, false, not, List, [], ◌∷◌, length}
use Rattle.mk_lines.specs.Limits.{max_text}
use Rattle.mk_lines.specs.LogicalLines.{logical_lines}
use Rattle.mk_lines.specs.Cells.{Cell, joined_byte}
use Rattle.mk_class.specs.Classes.{Class, is_conditional}
use Rattle.mk_class.specs.LocatedClasses.{located_class}
use Rattle.mk_class.specs.Contexts.{Context, context_after, context_after_located}
use Rattle.mk_class.specs.ClassTable.{class_of}
use Rattle.mk_class.specs.ClassedLines.{ClassedLine}
use Rattle.mk_tree.specs.LineTexts.{line_in}
use Rattle.mk_tree.specs.LocatedLines.{LocatedLine, located_line, located_lines, size_of}
use Rattle.mk_tree.proofs.AdmissionLemmas.{defines_after-few}
use Rattle.mk_tree.proofs.on_documents.LinesInText.{AreClassed, AreClassed-class, AreClassed-tail}
use Rattle.mk_edit_language.specs.Costs.{is_renamed}
use Rattle.mk_edit_language.specs.LinesInPlace.{AreLinesRenamedInPlace, IsLineRenamed}
use Rattle.mk_patch.specs.Moves.{IsPlain}
use Rattle.mk_patch.proofs.on_moves.TextLineLemmas.{plain-located}
use Rattle.mk_edit_parts.specs.RenamedRanges.{renamed_ranges}
use Rattle.mk_edit_parts.specs.RenamedTexts.{renamed_text}
use Rattle.mk_edit.specs.RenameTargetPatches.{holds_word, line_renamed, HasFewWords, HaveFewWords, CanBeRenamed, CanEachBeRenamed}
use Rattle.mk_edit_parts.proofs.on_renaming.LinePieces.{line-begins}
use Rattle.mk_edit_parts.proofs.on_renaming.WrittenLemmas.{apart-bytes}
use Rattle.mk_edit.proofs.on_renaming.LinesRenamed.{line-apart, line-rewritten, holds-renamed}
use Rattle.mk_edit.proofs.on_renaming.SizesOfWords.{renamed-few}

-- a line, or the one after the rename
abbrev pub line_where : (is_renamed : Bool) → (renamed line : LocatedLine) → LocatedLine
line_where true m l = m
line_where false m l = l

-- Lines of which those that pass a test are renamed. The first stands in a context.
abbrev pub renamed_where : (test : LocatedLine → Bool) → (old new : List ℕ) → Context → List LocatedLine → List LocatedLine
renamed_where p o n c [] = []
renamed_where p o n c (l ∷ ls) = line_where (p l) (line_renamed o n c l) l ∷ renamed_where p o n (context_after_located c l.class) ls

-- ---- one line

-- the words of a line are few, if the line is within the limit
few-words : (c : Context) (l : ClassedLine) (o : List ℕ) → class_of c l.bytes ≡ l.class → length l.bytes ≤ max_text → HasFewWords o (located_line l)
few-words c l o h few =
    let B = line-begins c l o o h in
    let a = line-apart c l o o B.rest h B.is in
    record {
      classed = record { context = c; class_is = ap (located_class joined_byte) (sym h) };
      few = omega (arith, renamed-few o (located_line l), few);
      few_bytes = omega (arith, apart-bytes 0 (length l.bytes) (renamed_ranges o (located_line l)) a, few);
    }

not-conditional : (k : Class Cell) → is_conditional k ≡ false → not (is_conditional k) ≡ true
not-conditional k h = ap not h

-- a line that is renamed as the law says can be renamed
line-can : (o n : List ℕ) (c : Context) (l m : ClassedLine) → class_of c l.bytes ≡ l.class → IsLineRenamed o n c l m → length l.bytes ≤ max_text → length m.bytes ≤ max_text → c.defines < max_text
    → CanBeRenamed o n c (located_line l)
line-can o n c l m h R few_old few_new low =
    let e : renamed_text o n (located_line l) ≡ m.bytes = line-rewritten c l o n R.rest m.bytes h R.old_line R.new_line in
    let same : line_renamed o n c (located_line l) ≡ located_line m =
    ap (λ b. located_line (line_in c b)) e ∙ ap (λ (k : Class Cell). located_line (record { bytes = m.bytes; class = k })) R.in_place.class in
    record {
      words = few-words c l o h few_old;
      apart = line-apart c l o n R.rest h R.old_line;
      fits = subst (λ z. length z ≤ max_text) (sym e) few_new;
      one = subst (λ z. logical_lines z ≡ z ∷ []) (sym e) R.in_place.one_line;
      defines = low;
      plain = λ z.
          let p = R.in_place.plain (sym (holds-renamed c l o n h) ∙ z) in
          (plain-located l (not-conditional l.class p.0), subst IsPlain (sym same) (plain-located m (not-conditional m.class p.1)));
    }

-- a line that holds the word becomes the line after the rename
line-becomes : (o n : List ℕ) (c : Context) (l m : ClassedLine) → class_of c l.bytes ≡ l.class → IsLineRenamed o n c l m
    → line_where (holds_word o (located_line l)) (line_renamed o n c (located_line l)) (located_line l) ≡ located_line m
line-becomes o n c l m h R =
    ap (λ b. line_where b (line_renamed o n c (located_line l)) (located_line l)) (holds-renamed c l o n h) ∙ go (is_renamed o n l) refl
  where
    go : (b : Bool) → is_renamed o n l ≡ b → line_where b (line_renamed o n c (located_line l)) (located_line l) ≡ located_line m
    go true z =
        ap (λ b. located_line (line_in c b)) (line-rewritten c l o n R.rest m.bytes h R.old_line R.new_line)
        ∙ ap (λ (k : Class Cell). located_line (record { bytes = m.bytes; class = k })) R.in_place.class
    go false z = ap located_line (sym (R.in_place.same z))

-- ---- all lines

-- the lines of a text within the limit have few words
pub lines-few_words : (o : List ℕ) (c : Context) (ls : List ClassedLine) → AreClassed c ls → size_of (located_lines ls) ≤ max_text → HaveFewWords o (located_lines ls)
lines-few_words o c [] h few = tt
lines-few_words o c (l ∷ ls) h few =
    (few-words c l o (AreClassed-class c l ls h) (omega (arith, few)), lines-few_words o (context_after c l.class) ls (AreClassed-tail c l ls h) (omega (arith, few)))

pub lines-can : (o n : List ℕ) (c : Context) (ls ms : List ClassedLine) → AreClassed c ls → AreLinesRenamedInPlace o n c ls ms → size_of (located_lines ls) ≤ max_text → size_of (located_lines ms) ≤ max_text
    → c.defines + length ls ≤ max_text → CanEachBeRenamed o n c (located_lines ls)
lines-can o n c [] [] h R few_old few_new low = tt
lines-can o n c [] (m ∷ ms) h R few_old few_new low = absurd R
lines-can o n c (l ∷ ls) [] h R few_old few_new low = absurd R
lines-can o n c (l ∷ ls) (m ∷ ms) h R few_old few_new low =
    let rest : CanEachBeRenamed o n (context_after c l.class) (located_lines ls) =
    lines-can o n (context_after c l.class) ls ms (AreClassed-tail c l ls h) R.1 (omega (arith, few_old)) (omega (arith, few_new)) (omega (arith, low, defines_after-few c.defines l.class)) in
    (line-can o n c l m (AreClassed-class c l ls h) R.0 (omega (arith, few_old)) (omega (arith, few_new)) (omega (arith, low)), rest)

pub lines-become : (o n : List ℕ) (c : Context) (ls ms : List ClassedLine) → AreClassed c ls → AreLinesRenamedInPlace o n c ls ms → renamed_where (holds_word o) o n c (located_lines ls) ≡ located_lines ms
lines-become o n c [] [] h R = refl
lines-become o n c [] (m ∷ ms) h R = absurd R
lines-become o n c (l ∷ ls) [] h R = absurd R
lines-become o n c (l ∷ ls) (m ∷ ms) h R =
    ap (λ z. z ∷ renamed_where (holds_word o) o n (context_after c l.class) (located_lines ls)) (line-becomes o n c l m (AreClassed-class c l ls h) R.0)
    ∙ ap (λ z. located_line m ∷ z) (lines-become o n (context_after c l.class) ls ms (AreClassed-tail c l ls h) R.1)
