-- A line, or a run of lines, of a text with the lines above and below it.
use Rattle.std.proofs.Common.{◌≡◌, refl, sym, ap, ◌∙◌, subst, ℕ, List, [], ◌∷◌, ◌++◌, append_assoc}
use Rattle.std.proofs.lemmas.List.{append-nil}
use Rattle.mk_lines.specs.Lists.{concat}
use Rattle.mk_lines.specs.LogicalLines.{logical_lines}
use Rattle.mk_lines.proofs.on_lines.LineLemmas.{OneLine, Ends, EndsBefore, Among, among}
use Rattle.mk_lines.specs.Cells.{Cell}
use Rattle.mk_class.specs.Classes.{Class}
use Rattle.mk_class.specs.Contexts.{Context, start, context_after}
use Rattle.mk_class.specs.ClassTable.{class_of}
use Rattle.mk_class.specs.ClassedLines.{ClassedLine, classed, classed_lines, context_after_lines}
use Rattle.mk_class.proofs.on_contexts.FlagLemmas.{context_after_lines-append}
use Rattle.mk_tree.specs.LineTexts.{text_of, context_of, line_in}
use Rattle.mk_tree.specs.Items.{items, items_of_line}
use Rattle.mk_tree.specs.Readings.{reading}
use Rattle.mk_tree.proofs.on_documents.DocumentLemmas.{text_of-classed_lines}
pub use Rattle.mk_tree.specs.LineTexts.{bytes_of}

pub bytes_of-append : (a b : List ClassedLine) → bytes_of (a ++ b) ≡ bytes_of a ++ bytes_of b
bytes_of-append [] b = refl
bytes_of-append (l ∷ a) b = ap (λ z. l.bytes ∷ z) (bytes_of-append a b)

-- the bytes of lines that have been given classes are as they were
pub bytes_of-classed : (c : Context) (ls : List (List ℕ)) → bytes_of (classed c ls) ≡ ls
bytes_of-classed c [] = refl
bytes_of-classed c (l ∷ ls) = ap (λ z. l ∷ z) (bytes_of-classed (context_after c (class_of c l)) ls)

-- the text of lines is their bytes joined
pub text_of-bytes : (ls : List ClassedLine) → text_of ls ≡ concat (bytes_of ls)
text_of-bytes [] = refl
text_of-bytes (l ∷ ls) = ap (λ z. l.bytes ++ z) (text_of-bytes ls)

pub text_of-append : (a b : List ClassedLine) → text_of (a ++ b) ≡ text_of a ++ text_of b
text_of-append [] b = refl
text_of-append (l ∷ a) b = ap (λ z. l.bytes ++ z) (text_of-append a b) ∙ sym (append_assoc l.bytes (text_of a) (text_of b))

pub items-append : (a b : List ClassedLine) → items (a ++ b) ≡ items a ++ items b
items-append [] b = refl
items-append (l ∷ a) b = ap (λ z. items_of_line l.class l.bytes ++ z) (items-append a b) ∙ sym (append_assoc (items_of_line l.class l.bytes) (items a) (items b))

-- the context after two runs of lines, and after one more line
pub context_of-append : (a b : List ClassedLine) → context_of (a ++ b) ≡ context_after_lines (context_of a) b
context_of-append a b = context_after_lines-append start a b

pub context_of-last : (a : List ClassedLine) (l : ClassedLine) → context_of (a ++ l ∷ []) ≡ context_after (context_of a) l.class
context_of-last a l = context_after_lines-append start a (l ∷ [])

-- ---- lines with the classes that they have in a context

-- each line has the class that it has in its context; the first line stands in this context
abbrev pub AreClassed : Context → List ClassedLine → Type 0
AreClassed c ls = classed c (bytes_of ls) ≡ ls

pub AreClassed-classed : (c : Context) (ls : List (List ℕ)) → AreClassed c (classed c ls)
AreClassed-classed c ls = ap (classed c) (bytes_of-classed c ls)

-- the class of the first line
pub AreClassed-class : (c : Context) (l : ClassedLine) (ls : List ClassedLine) → AreClassed c (l ∷ ls) → class_of c l.bytes ≡ l.class
AreClassed-class c l ls h = let e : line_in c l.bytes ≡ l = cc in ap (λ z. z.class) e

-- the lines after the first have their classes too
pub AreClassed-tail : (c : Context) (l : ClassedLine) (ls : List ClassedLine) → AreClassed c (l ∷ ls) → AreClassed (context_after c l.class) ls
AreClassed-tail c l ls h =
    let e : classed (context_after c (class_of c l.bytes)) (bytes_of ls) ≡ ls = cc in
    ap (λ (k : Class Cell). classed (context_after c k) (bytes_of ls)) (sym (AreClassed-class c l ls h)) ∙ e

-- put together again
pub AreClassed-cons : (c : Context) (l : ClassedLine) (ls : List ClassedLine) → class_of c l.bytes ≡ l.class → AreClassed (context_after c l.class) ls → AreClassed c (l ∷ ls)
AreClassed-cons c l ls h k =
    ap (λ (z : Class Cell). record { bytes = l.bytes; class = z } ∷ classed (context_after c z) (bytes_of ls)) h ∙ ap (λ z. l ∷ z) k

-- two runs of lines
AreClassed-first : (c : Context) (a b : List ClassedLine) → AreClassed c (a ++ b) → AreClassed c a
AreClassed-first c [] b h = refl
AreClassed-first c (l ∷ a) b h =
    AreClassed-cons c l a (AreClassed-class c l (a ++ b) h) (AreClassed-first (context_after c l.class) a b (AreClassed-tail c l (a ++ b) h))

AreClassed-second : (c : Context) (a b : List ClassedLine) → AreClassed c (a ++ b) → AreClassed (context_after_lines c a) b
AreClassed-second c [] b h = h
AreClassed-second c (l ∷ a) b h = AreClassed-second (context_after c l.class) a b (AreClassed-tail c l (a ++ b) h)

-- the lines of a text have the classes that they have there
pub AreClassed-lines : (t : List ℕ) (ls : List ClassedLine) → classed_lines t ≡ ls → AreClassed start ls
AreClassed-lines t ls h = subst (AreClassed start) h (AreClassed-classed start (logical_lines t))

-- ---- a run of lines of a text

-- What is known of a run of lines of a text, with the lines above and below it.
pub record RunInText (t : List ℕ) (above run below : List ClassedLine) : Type 0 where
  -- the text is theirs
  pub text : t ≡ text_of above ++ (text_of run ++ text_of below)
  -- the logical lines of the text are their bytes
  pub lines : logical_lines t ≡ bytes_of above ++ (bytes_of run ++ bytes_of below)
  -- each line has its class in the context of the lines above it
  pub above_classed : AreClassed start above
  pub run_classed : AreClassed (context_of above) run
  pub below_classed : AreClassed (context_after_lines (context_of above) run) below

-- a run of lines of a text
pub run-in_text : (t : List ℕ) (above run below : List ClassedLine) → classed_lines t ≡ above ++ (run ++ below) → RunInText t above run below
run-in_text t above run below h =
    let a : AreClassed start (above ++ (run ++ below)) = AreClassed-lines t (above ++ (run ++ below)) h in
    let b : AreClassed (context_of above) (run ++ below) = AreClassed-second start above (run ++ below) a in
    record {
      text = sym (text_of-classed_lines t) ∙ (ap text_of h ∙ (text_of-append above (run ++ below) ∙ ap (λ z. text_of above ++ z) (text_of-append run below)));
      lines = sym (bytes_of-classed start (logical_lines t)) ∙ (ap bytes_of h ∙ (bytes_of-append above (run ++ below) ∙ ap (λ z. bytes_of above ++ z) (bytes_of-append run below)));
      above_classed = AreClassed-first start above (run ++ below) a;
      run_classed = AreClassed-first (context_of above) run below b;
      below_classed = AreClassed-second (context_of above) run below b;
    }

-- ---- a line of a text

-- What is known of a line of a text, with the lines above and below it.
pub record LineInText (t : List ℕ) (above : List ClassedLine) (line : ClassedLine) (below : List ClassedLine) : Type 0 where
  -- the text is theirs
  pub text : t ≡ text_of above ++ (line.bytes ++ text_of below)
  -- the logical lines of the text are their bytes
  pub lines : logical_lines t ≡ bytes_of above ++ (line.bytes ∷ bytes_of below)
  -- each line has its class in the context of the lines above it
  pub above_classed : AreClassed start above
  pub class : class_of (context_of above) line.bytes ≡ line.class
  pub below_classed : AreClassed (context_after (context_of above) line.class) below
  -- the line is one line by itself, begins where the lines above end, and ends a line if lines are below
  pub one : OneLine line.bytes
  pub begins : Ends (text_of above)
  pub ends : EndsBefore line.bytes (bytes_of below)

-- a line of a text
pub line-in_text : (t : List ℕ) (above : List ClassedLine) (line : ClassedLine) (below : List ClassedLine) → classed_lines t ≡ above ++ line ∷ below → LineInText t above line below
line-in_text t above line below h =
    let r : RunInText t above (line ∷ []) below = run-in_text t above (line ∷ []) below h in
    let a : Among (bytes_of above) line.bytes (bytes_of below) = among t (bytes_of above) line.bytes (bytes_of below) r.lines in
    record {
      text = r.text ∙ ap (λ z. text_of above ++ (z ++ text_of below)) (append-nil line.bytes);
      lines = r.lines;
      above_classed = r.above_classed;
      class = AreClassed-class (context_of above) line [] r.run_classed;
      below_classed = r.below_classed;
      one = a.one;
      begins = subst Ends (sym (text_of-bytes above)) a.at_start;
      ends = a.ends;
    }

-- ---- the reading of lines taken apart

-- the reading of a text whose lines are those of two lists, or of three
reading-two : (t : List ℕ) (a b : List ClassedLine) → classed_lines t ≡ a ++ b → reading t ≡ items a ++ items b
reading-two t a b h = ap items h ∙ items-append a b

pub reading-three : (t : List ℕ) (a b c : List ClassedLine) → classed_lines t ≡ a ++ (b ++ c) → reading t ≡ items a ++ (items b ++ items c)
reading-three t a b c h = reading-two t a (b ++ c) h ∙ ap (λ z. items a ++ z) (items-append b c)
