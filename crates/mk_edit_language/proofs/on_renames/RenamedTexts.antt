-- The lines of a text after a rename, each in the place of the old one: the reading has the new word for each that was the old.
use Rattle.std.proofs.Common.{◌≡◌, refl, sym, ap, ◌∙◌, subst, ℕ, List, [], ◌∷◌, ◌++◌, map, false, length, drop, ◌+◌}
use Rattle.std.proofs.lemmas.List.{map-append}
use Rattle.std.proofs.lemmas.Bool.{or_parts}
use Rattle.std.proofs.Math.Seq.{drop-append_seam}
use Rattle.mk_lines.specs.PhysicalLines.{line_end, line_end_bytes}
use Rattle.mk_lines.specs.Cells.{Cell, raw_text}
use Rattle.mk_lines.specs.Pieces.{Piece, replaced, replacements, old_bytes, new_bytes}
use Rattle.mk_lines.proofs.on_lists.PieceLemmas.{raw_text-old_cells, raw_text-new_cells}
use Rattle.mk_lines.proofs.on_lines.LineLemmas.{OneLine, OneLine-of, OneLine-logical, EndsBefore}
use Rattle.mk_lines.proofs.on_lines.LineEndLemmas.{EndsBefore-followed, EndsWhereFollowed-of}
use Rattle.mk_class.specs.Headers
use Rattle.mk_class.specs.Classes.{Class}
use Rattle.mk_class.specs.Contexts.{Context, start, context_after}
use Rattle.mk_class.specs.ClassTable.{class_of}
use Rattle.mk_class.specs.ClassedLines.{ClassedLine, classed_lines}
use Rattle.mk_tree.specs.LineTexts.{bytes_of}
use Rattle.mk_tree.specs.Items
use Rattle.mk_tree.specs.Items.{items, items_of_line, assigned}
use Rattle.mk_tree.specs.Readings.{reading}
use Rattle.mk_tree.proofs.on_changes.SpansInLines.{after_pieces, BeginWithPieces, line_replacements}
use Rattle.mk_tree.specs.EachReplaced.{ReplacesLine, ReplaceEach}
use Rattle.mk_tree.proofs.on_changes.EachReplacedLemmas.{EachInContext, replace-each, lines-in_place, with_pieces, all_pieces-replaced}
use Rattle.mk_edit_language.specs.AddressCauses.{begins_renamed_line, begins_some_renamed_line}
use Rattle.mk_edit_language.specs.WordPieces.{renamed_pieces}
use Rattle.mk_edit_language.specs.EditSpans.{renamed_spans}
use Rattle.mk_edit_language.specs.Changes.{renamed_item}
use Rattle.mk_edit_language.proofs.on_lines.HeaderChanges.{header-here}
use Rattle.mk_edit_language.proofs.on_renames.RenamedHeaders.{IsNewTarget, renamed_units, renamed-texts, header_renamed, rename-pieces_old, rename-pieces_new, rename-item, renamed-header}

-- a target assignment after a rename
abbrev pub targets_renamed : (old new : List ℕ) → Headers.TargetAssignment Cell → Headers.TargetAssignment Cell
targets_renamed o n a = record a { targets = renamed_units o n a.targets }

-- a class after a rename
abbrev pub renamed_class : (old new : List ℕ) → Class Cell → Class Cell
renamed_class o n (Class.Header h) = Class.Header (header_renamed o n h)
renamed_class o n (Class.TargetAssign a) = Class.TargetAssign (targets_renamed o n a)
renamed_class o n k = k

-- A line of a class with the pieces of a rename replaced: it begins with these pieces. The new line is one line, ends a line if
-- lines follow, and has the class after the rename.
pub record IsRenamed (o n : List ℕ) (c : Context) (l : List ℕ) (below : List (List ℕ)) (k : Class Cell) : Type 0 where
  pub rest : List ℕ
  pub is : l ≡ old_bytes (renamed_pieces o n k) ++ rest
  pub one : OneLine (new_bytes (renamed_pieces o n k) ++ rest)
  pub ends : EndsBefore (new_bytes (renamed_pieces o n k) ++ rest) below
  pub class : class_of c (new_bytes (renamed_pieces o n k) ++ rest) ≡ renamed_class o n k

-- each line of a class has its pieces replaced after a rename
abbrev pub AreRenamed : (old new : List ℕ) → Class Cell → Type 0
AreRenamed o n k =
    (c : Context) (l : List ℕ) (below : List (List ℕ)) → class_of c l ≡ k → OneLine l → EndsBefore l below → begins_renamed_line c.prefix (renamed_pieces o n k) ≡ false → IsRenamed o n c l below k

-- a line without words to rename
kept-renamed : (o n : List ℕ) (k : Class Cell) → renamed_pieces o n k ≡ [] → renamed_class o n k ≡ k → AreRenamed o n k
kept-renamed o n k p q c l below e one ends led = record {
  rest = l;
  is = ap (λ z. old_bytes z ++ l) (sym p);
  one = subst (λ z. OneLine (new_bytes z ++ l)) (sym p) one;
  ends = subst (λ z. EndsBefore (new_bytes z ++ l) below) (sym p) ends;
  class = ap (λ z. class_of c (new_bytes z ++ l)) p ∙ (e ∙ sym q);
}

-- a header's line
header-renamed : (o n : List ℕ) → IsNewTarget o n → (h : Headers.Header Cell) → AreRenamed o n (Class.Header h)
header-renamed o n new h c l below e one ends led =
    let H = header-here c l h e in
    let W = renamed-header o n new c l below h H one ends led in
    let ps = renamed_pieces o n (Class.Header h) in
    let end = line_end_bytes (line_end l) in
    let old : l ≡ old_bytes ps ++ end = H.whole ∙ ap (λ z. z ++ end) (ap raw_text (sym (rename-pieces_old o n new h)) ∙ raw_text-old_cells ps) in
    let made = ap (λ z. z ++ end) (ap raw_text (sym (rename-pieces_new o n new h)) ∙ raw_text-new_cells ps) in
    record {
      rest = end;
      is = old;
      one = subst OneLine made W.line.one;
      ends = subst (λ z. EndsBefore z below) made W.line.ends;
      class = ap (class_of c) (sym made) ∙ W.class;
    }

-- lines of each class, where it is so with target assignments
pub class-renamed : (o n : List ℕ) → IsNewTarget o n → ((a : Headers.TargetAssignment Cell) → AreRenamed o n (Class.TargetAssign a)) → (k : Class Cell) → AreRenamed o n k
class-renamed o n new f (Class.Header h) = header-renamed o n new h
class-renamed o n new f (Class.TargetAssign a) = f a
class-renamed o n new f Class.Endef = kept-renamed o n Class.Endef refl refl
class-renamed o n new f (Class.Body d) = kept-renamed o n (Class.Body d) refl refl
class-renamed o n new f Class.Recipe = kept-renamed o n Class.Recipe refl refl
class-renamed o n new f Class.Opaque = kept-renamed o n Class.Opaque refl refl
class-renamed o n new f Class.Blank = kept-renamed o n Class.Blank refl refl
class-renamed o n new f Class.Comment = kept-renamed o n Class.Comment refl refl
class-renamed o n new f (Class.Assign a p) = kept-renamed o n (Class.Assign a p) refl refl
class-renamed o n new f (Class.DefineHead p) = kept-renamed o n (Class.DefineHead p) refl refl
class-renamed o n new f Class.If = kept-renamed o n Class.If refl refl
class-renamed o n new f Class.Else = kept-renamed o n Class.Else refl refl
class-renamed o n new f Class.Endif = kept-renamed o n Class.Endif refl refl
class-renamed o n new f Class.Directive = kept-renamed o n Class.Directive refl refl
class-renamed o n new f Class.Rough = kept-renamed o n Class.Rough refl refl

-- the context after a line stays
context-renamed : (o n : List ℕ) (c : Context) (k : Class Cell) → context_after c (renamed_class o n k) ≡ context_after c k
context-renamed o n c (Class.Header h) = refl
context-renamed o n c (Class.TargetAssign a) = refl
context-renamed o n c Class.Endef = refl
context-renamed o n c (Class.Body d) = refl
context-renamed o n c Class.Recipe = refl
context-renamed o n c Class.Opaque = refl
context-renamed o n c Class.Blank = refl
context-renamed o n c Class.Comment = refl
context-renamed o n c (Class.Assign a p) = refl
context-renamed o n c (Class.DefineHead p) = refl
context-renamed o n c Class.If = refl
context-renamed o n c Class.Else = refl
context-renamed o n c Class.Endif = refl
context-renamed o n c Class.Directive = refl
context-renamed o n c Class.Rough = refl

-- the pieces of a line, and its class after the rename
abbrev pub line_pieces : (o n : List ℕ) → ClassedLine → List Piece
line_pieces o n l = renamed_pieces o n l.class

abbrev pub line_class : (o n : List ℕ) → ClassedLine → Class Cell
line_class o n l = renamed_class o n l.class

-- What is known of the lines of a text and a rename: each line begins with its pieces, and can be replaced by the line with these
-- pieces replaced; the rename does so.
pub record AreLinesRenamed (o n t : List ℕ) : Type 0 where
  pub begin : BeginWithPieces (line_pieces o n) (classed_lines t)
  pub each : ReplaceEach start (classed_lines t) (map (with_pieces (line_pieces o n) (line_class o n)) (classed_lines t)) []
  pub spans_are : renamed_spans o n 0 (classed_lines t) ≡ line_replacements (line_pieces o n) 0 (classed_lines t)
  pub lines : classed_lines (replaced 0 t (renamed_spans o n 0 (classed_lines t))) ≡ map (with_pieces (line_pieces o n) (line_class o n)) (classed_lines t)

module _ (o n : List ℕ) (new : IsNewTarget o n) (all : (k : Class Cell) → AreRenamed o n k) where
  -- whether a line that the rename changes would not begin with the prefix
  abbrev FreeOfPrefix : Context → ClassedLine → Type 0
  FreeOfPrefix c l = begins_renamed_line c.prefix (line_pieces o n l) ≡ false

  after-is : (c : Context) (l : ClassedLine) (below : List (List ℕ)) → (r : IsRenamed o n c l.bytes below l.class) → after_pieces (line_pieces o n) l ≡ r.rest
  after-is c l below r = ap (drop (length (old_bytes (line_pieces o n l)))) r.is ∙ drop-append_seam (old_bytes (line_pieces o n l)) r.rest

  replaces : (c : Context) (l : ClassedLine) (following : List ClassedLine) → FreeOfPrefix c l → ReplacesLine c l l following → ReplacesLine c l (with_pieces (line_pieces o n) (line_class o n) l) following
  replaces c l following f s =
      let r = all l.class c l.bytes (bytes_of following) s.class (OneLine-of l.bytes s.one) (EndsBefore-followed l.bytes (bytes_of following) s.ends) f in
      let e = after-is c l (bytes_of following) r in
      let P = new_bytes (line_pieces o n l) in
      record {
        one = OneLine-logical (P ++ after_pieces (line_pieces o n) l) (subst (λ z. OneLine (P ++ z)) (sym e) r.one);
        ends = EndsWhereFollowed-of (P ++ after_pieces (line_pieces o n) l) (bytes_of following) (subst (λ z. EndsBefore (P ++ z) (bytes_of following)) (sym e) r.ends);
        class = ap (λ z. class_of c (P ++ z)) e ∙ r.class;
        context = context-renamed o n c l.class;
      }

  begins : (c : Context) (ls : List ClassedLine) → EachInContext FreeOfPrefix c ls → ReplaceEach c ls ls [] → BeginWithPieces (line_pieces o n) ls
  begins c [] f s = tt
  begins c (l ∷ ls) f s =
      let r = all l.class c l.bytes (bytes_of (ls ++ [])) s.0.class (OneLine-of l.bytes s.0.one) (EndsBefore-followed l.bytes (bytes_of (ls ++ [])) s.0.ends) f.0 in
      (r.is ∙ ap (λ z. old_bytes (line_pieces o n l) ++ z) (sym (after-is c l (bytes_of (ls ++ [])) r)), begins (context_after c l.class) ls f.1 s.1)

  free : (c : Context) (ls : List ClassedLine) → begins_some_renamed_line o n c ls ≡ false → EachInContext FreeOfPrefix c ls
  free c [] h = tt
  free c (l ∷ ls) h =
      let p = or_parts (begins_renamed_line c.prefix (line_pieces o n l)) (begins_some_renamed_line o n (context_after c l.class) ls) h in
      (p.0, free (context_after c l.class) ls p.1)

  spans-are : (at : ℕ) (ls : List ClassedLine) → renamed_spans o n at ls ≡ line_replacements (line_pieces o n) at ls
  spans-are at [] = refl
  spans-are at (l ∷ ls) = ap (λ z. replacements at (line_pieces o n l) ++ z) (spans-are (at + length l.bytes) ls)

  line-item : (k : Class Cell) (b : List ℕ) → items_of_line (renamed_class o n k) (new_bytes (renamed_pieces o n k) ++ drop (length (old_bytes (renamed_pieces o n k))) b) ≡ map (renamed_item o n) (items_of_line k b)
  line-item (Class.Header h) b = ap (λ z. z ∷ []) (rename-item o n new h)
  line-item (Class.TargetAssign a) b = ap (λ z. Items.TargetAssign z a.separator (assigned a.assigned) ∷ []) (renamed-texts o n new.word a.targets)
  line-item Class.Endef b = refl
  line-item (Class.Body d) b = refl
  line-item Class.Recipe b = refl
  line-item Class.Opaque b = refl
  line-item Class.Blank b = refl
  line-item Class.Comment b = refl
  line-item (Class.Assign a p) b = refl
  line-item (Class.DefineHead p) b = refl
  line-item Class.If b = refl
  line-item Class.Else b = refl
  line-item Class.Endif b = refl
  line-item Class.Directive b = refl
  line-item Class.Rough b = refl

  lines-items : (ls : List ClassedLine) → items (map (with_pieces (line_pieces o n) (line_class o n)) ls) ≡ map (renamed_item o n) (items ls)
  lines-items [] = refl
  lines-items (l ∷ ls) =
      ap (λ z. z ++ items (map (with_pieces (line_pieces o n) (line_class o n)) ls)) (line-item l.class l.bytes)
      ∙ (ap (λ z. map (renamed_item o n) (items_of_line l.class l.bytes) ++ z) (lines-items ls) ∙ sym (map-append (renamed_item o n) (items_of_line l.class l.bytes) (items ls)))

  -- this holds for a text in which the rename makes no line begin with the prefix
  pub lines-renamed : (t : List ℕ) → begins_some_renamed_line o n start (classed_lines t) ≡ false → AreLinesRenamed o n t
  lines-renamed t h =
      let ls = classed_lines t in
      let F = free start ls h in
      let S = lines-in_place t in
      let b = begins start ls F S in
      let e = replace-each FreeOfPrefix (with_pieces (line_pieces o n) (line_class o n)) replaces start ls [] F S in
      record {
        begin = b;
        each = e;
        spans_are = spans-are 0 ls;
        lines = ap (λ z. classed_lines (replaced 0 t z)) (spans-are 0 ls) ∙ all_pieces-replaced (line_pieces o n) (line_class o n) t b e;
      }

  -- A text after a rename, which begins no line with the prefix, reads as before with the new word for the old.
  pub reading-renamed : (t : List ℕ) → begins_some_renamed_line o n start (classed_lines t) ≡ false
      → reading (replaced 0 t (renamed_spans o n 0 (classed_lines t))) ≡ map (renamed_item o n) (reading t)
  reading-renamed t h = ap items (lines-renamed t h).lines ∙ lines-items (classed_lines t)
