-- A new line put between lines: it is one line there. If it comes last, the line above it gets a line end if it has none, and is
-- otherwise as it was.
use Rattle.std.proofs.Common.{◌≡◌, refl, sym, ap, ◌∙◌, subst, ℕ, List, [], ◌∷◌, ◌++◌, append_assoc, Bool, true, false, not, ◌&&◌, ◌||◌, if◌then◌else◌, reverse, map}
use Rattle.std.specs.List.{list_any}
use Rattle.std.specs.Prelude.{nat_lt, ◌==◌}
use Rattle.std.proofs.lemmas.List.{append-nil, reverse-append, map-append}
use Rattle.std.proofs.lemmas.Bool.{or_from, and_right}
use Rattle.mk_lines.specs.Bytes.{ByteKind, LineFeed, CarriageReturn, Backslash, Blank, Ordinary, byte_kind, is_backslash_kind, is_carriage_return_kind}
use Rattle.mk_lines.proofs.on_lists.ListLemmas.{Each-right}
use Rattle.mk_lines.specs.PhysicalLines.{physical_lines, line_end, line_end_bytes, without_line_end, ends_with_carriage_return, is_carriage_return_first, file_line_end, first_line_end, line_end_or_lf}
use Rattle.mk_lines.specs.LogicalLines.{starts_with_odd_run, starts_with_odd_run_at, ends_with_odd_run, is_continued, is_open, has_no_line_end}
use Rattle.mk_lines.specs.Cells.{Cell, cells, joined_byte}
use Rattle.mk_lines.specs.Units.{units}
use Rattle.mk_lines.proofs.on_lines.LineCut.{NoLineFeed, logical_lines-last}
use Rattle.mk_lines.proofs.on_lines.LineLemmas.{OneLine, OneLine-of, Ends}
use Rattle.mk_lines.proofs.on_lines.LineEndLemmas.{FirstIsNot, without_line_end-append, line_end-append, without_line_end-line_end, ends_line-ends}
use Rattle.mk_lines.proofs.on_cells.LineCells.{HasNoLineEnd, is_no_line_end_kind, one_line-not_empty}
use Rattle.mk_lines.proofs.on_lines.LineEndAdded.{IsEnded, line_end-added, not_open-ends_line}
use Rattle.mk_lines.specs.declared.ends.End.{End}
use Rattle.mk_lines.specs.declared.ends.End.TheVariants.{None, Lf, CrLf}
use Rattle.mk_class.specs.ListTests.{is_empty, last_passes}
use Rattle.mk_class.specs.Arguments.{is_backslash_byte, is_barred_byte, is_clean, is_line_end_kind}
use Rattle.mk_class.specs.Classes.{Class}
use Rattle.mk_class.specs.RecipePrefix.{is_prefix_led}
use Rattle.mk_class.specs.Contexts.{Context, context_after, flag_after}
use Rattle.mk_class.specs.ClassTable.{is_unreadable, class_of, class_at}
use Rattle.mk_class.specs.ClassedLines.{ClassedLine, classed_lines}
use Rattle.mk_tree.specs.LineTexts.{text_of, context_of}
use Rattle.mk_tree.specs.Items.{items, items_of_line}
use Rattle.mk_tree.specs.Leaning.{AgreeButForFlag, leans}
use Rattle.mk_tree.proofs.on_documents.LinesInText.{text_of-append, items-append, context_of-last, LineInText, line-in_text}
use Rattle.mk_tree.specs.NewLineEnds.{lacks_line_end, with_line_end, line_ended, last_ended, above_ended, missing_line_end}
use Rattle.mk_tree.proofs.on_changes.RunsReplaced.{Ends-append, line-inserted, line-replaced}

-- ---- the line end of a file

-- new lines have a line end
pub file_line_end-some : (t : List ℕ) → has_no_line_end (file_line_end t) ≡ false
file_line_end-some t = first (physical_lines t)
  where
    some : (e : End) → has_no_line_end (line_end_or_lf e) ≡ false
    some None = refl
    some Lf = refl
    some CrLf = refl

    first : (ls : List (List ℕ)) → has_no_line_end (first_line_end ls) ≡ false
    first [] = refl
    first (l ∷ ls) = some (line_end l)

-- ---- the last of a list

-- a list that is not empty, with its last element apart
record LastApart {A : Type 0} (t : List A) : Type 0 where
  pub front : List A
  pub last : A
  pub is : t ≡ front ++ last ∷ []

last-apart : {A : Type 0} (b : A) (t : List A) → LastApart (b ∷ t)
last-apart b [] = record { front = []; last = b; is = refl }
last-apart b (c ∷ t) = let a = last-apart c t in record { front = b ∷ a.front; last = a.last; is = ap (λ z. b ∷ z) a.is }

last_passes-last : {A : Type 0} (p : A → Bool) (front : List A) (l : A) → last_passes p (front ++ l ∷ []) ≡ p l
last_passes-last p [] l = refl
last_passes-last p (x ∷ []) l = refl
last_passes-last p (x ∷ y ∷ front) l = last_passes-last p (y ∷ front) l

-- a text that ends in no backslash ends in no odd run of them
no_backslash-no_odd_run : (t : List ℕ) → last_passes is_backslash_byte t ≡ false → ends_with_odd_run t ≡ false
no_backslash-no_odd_run [] h = refl
no_backslash-no_odd_run (b ∷ t) h = apart (b ∷ t) (last-apart b t) h
  where
    kind : (k : ByteKind) (r : Bool) → is_backslash_kind k ≡ false → starts_with_odd_run_at k r ≡ false
    kind Backslash r h = cc
    kind LineFeed r h = refl
    kind CarriageReturn r h = refl
    kind Blank r h = refl
    kind Ordinary r h = refl

    apart : (t : List ℕ) (a : LastApart t) → last_passes is_backslash_byte t ≡ false → ends_with_odd_run t ≡ false
    apart t a h =
        let e : is_backslash_byte a.last ≡ false = sym (last_passes-last is_backslash_byte a.front a.last) ∙ (ap (last_passes is_backslash_byte) (sym a.is) ∙ h) in
        ap ends_with_odd_run a.is ∙ (ap starts_with_odd_run (reverse-append a.front (a.last ∷ [])) ∙ kind (byte_kind a.last) (starts_with_odd_run (reverse a.front)) e)

-- a text without LF and CR ends in no carriage return
no_line_end-no_carriage_return : (t : List ℕ) → HasNoLineEnd t → ends_with_carriage_return t ≡ false
no_line_end-no_carriage_return [] h = refl
no_line_end-no_carriage_return (b ∷ t) h = apart (b ∷ t) (last-apart b t) h
  where
    kind : (k : ByteKind) → is_no_line_end_kind k ≡ true → is_carriage_return_kind k ≡ false
    kind CarriageReturn h = cc
    kind LineFeed h = cc
    kind Backslash h = refl
    kind Blank h = refl
    kind Ordinary h = refl

    apart : (t : List ℕ) (a : LastApart t) → HasNoLineEnd t → ends_with_carriage_return t ≡ false
    apart t a h =
        let e : HasNoLineEnd (a.last ∷ []) = Each-right (λ b. is_no_line_end_kind (byte_kind b)) a.front (a.last ∷ []) (subst HasNoLineEnd a.is h) in
        ap ends_with_carriage_return a.is ∙ (ap is_carriage_return_first (reverse-append a.front (a.last ∷ [])) ∙ kind (byte_kind a.last) e.0)

-- a text without LF and CR has no line feed
no_line_end-no_line_feed : (t : List ℕ) → HasNoLineEnd t → NoLineFeed t
no_line_end-no_line_feed [] h = tt
no_line_end-no_line_feed (b ∷ t) h = (kind (byte_kind b) h.0, no_line_end-no_line_feed t h.1)
  where
    kind : (k : ByteKind) → is_no_line_end_kind k ≡ true → k ≡ LineFeed → ⊥
    kind LineFeed h e = cc
    kind CarriageReturn h e = cc
    kind Backslash h e = cc
    kind Blank h e = cc
    kind Ordinary h e = cc

-- what an edit may write has neither
pub clean-no_line_end : (t : List ℕ) → is_clean t ≡ true → HasNoLineEnd t
clean-no_line_end [] h = tt
clean-no_line_end (b ∷ t) h = go (byte_kind b) (b == 0) (list_any is_barred_byte t) h (λ k. clean-no_line_end t k)
  where
    go : (k : ByteKind) (z r : Bool) → not ((is_line_end_kind k || z) || r) ≡ true → (not r ≡ true → HasNoLineEnd t) → (is_no_line_end_kind k ≡ true) × HasNoLineEnd t
    go LineFeed z r h ih = cc
    go CarriageReturn z r h ih = cc
    go Backslash true r h ih = cc
    go Backslash false r h ih = (refl, ih h)
    go Blank true r h ih = cc
    go Blank false r h ih = (refl, ih h)
    go Ordinary true r h ih = cc
    go Ordinary false r h ih = (refl, ih h)

-- ---- the text of a new line

not_line_feed_last : (t : List ℕ) → NoLineFeed t → FirstIsNot LineFeed (reverse t)
not_line_feed_last [] h = tt
not_line_feed_last (b ∷ t) h = apart (b ∷ t) (last-apart b t) h
  where
    last : (front : List ℕ) (l : ℕ) → NoLineFeed (front ++ l ∷ []) → byte_kind l ≡ LineFeed → ⊥
    last [] l h = h.0
    last (x ∷ front) l h = last front l h.1

    apart : (t : List ℕ) (a : LastApart t) → NoLineFeed t → FirstIsNot LineFeed (reverse t)
    apart t a h = subst (FirstIsNot LineFeed) (sym (ap reverse a.is ∙ reverse-append a.front (a.last ∷ []))) (last a.front a.last (subst NoLineFeed a.is h))

new_line-some : (b : ℕ) (t : List ℕ) (e : End) → NoLineFeed (b ∷ t) → ends_with_odd_run (b ∷ t) ≡ false → ends_with_carriage_return (b ∷ t) ≡ false → has_no_line_end e ≡ false → IsEnded (b ∷ t) e
new_line-some b t e h r c k =
    let x = b ∷ t in
    let f : FirstIsNot LineFeed (reverse x) = not_line_feed_last x h in
    let n : line_end x ≡ None = ap line_end (sym (append-nil x)) ∙ line_end-append x None f in
    let w : without_line_end x ≡ x = ap without_line_end (sym (append-nil x)) ∙ without_line_end-append x None f in
    let o : is_open x ≡ false = or_from (is_continued x) (has_no_line_end (line_end x) && ends_with_carriage_return x) (ap ends_with_odd_run w ∙ r) (and_right (has_no_line_end (line_end x)) (ends_with_carriage_return x) c) in
    line_end-added b t e (OneLine-of x (logical_lines-last b t h)) n o k

-- A text without LF, which ends neither in a backslash (more exactly, in an odd run of backslashes) nor in a carriage return, and
-- a line end: together they are one line, which ends a line, and has this text and this line end.
new_line : (x : List ℕ) (e : End) → NoLineFeed x → ends_with_odd_run x ≡ false → ends_with_carriage_return x ≡ false → has_no_line_end e ≡ false → IsEnded x e
unfolding OneLine Ends
new_line x None h r c k = cc
new_line [] Lf h r c k = record { one = refl; ends = refl; same_text = refl; same_end = refl }
new_line [] CrLf h r c k = record { one = refl; ends = refl; same_text = refl; same_end = refl }
new_line (b ∷ t) Lf h r c k = new_line-some b t Lf h r c k
new_line (b ∷ t) CrLf h r c k = new_line-some b t CrLf h r c k

-- a clean text that ends in no backslash, and a line end
pub new_line-clean : (x : List ℕ) (e : End) → is_clean x ≡ true → last_passes is_backslash_byte x ≡ false → has_no_line_end e ≡ false → IsEnded x e
new_line-clean x e h b k =
    let n : HasNoLineEnd x = clean-no_line_end x h in
    new_line x e (no_line_end-no_line_feed x n) (no_backslash-no_odd_run x b) (no_line_end-no_carriage_return x n) k

-- ---- lines of the same text

class_with : Context → (led : Bool) → (text : List ℕ) → Class Cell
class_with c led x = class_at joined_byte led c.defines c.flag (nat_lt 0 c.conditionals) (is_unreadable (cells x)) (units joined_byte (cells x))

-- lines that begin alike, and have the same text without their line ends, have the same class
class_of-same_text : (c : Context) (l m : List ℕ) → is_prefix_led c.prefix l ≡ is_prefix_led c.prefix m → without_line_end l ≡ without_line_end m → class_of c l ≡ class_of c m
unfolding class_with
class_of-same_text c l m p h = ap (λ z. class_with c z (without_line_end l)) p ∙ ap (class_with c (is_prefix_led c.prefix m)) h

-- such lines have the same item
items_of_line-same_text : (k : Class Cell) (l m : List ℕ) → without_line_end l ≡ without_line_end m → items_of_line k l ≡ items_of_line k m
items_of_line-same_text Class.Blank l m h = refl
items_of_line-same_text Class.Comment l m h = refl
items_of_line-same_text (Class.Assign a p) l m h = refl
items_of_line-same_text (Class.TargetAssign t) l m h = refl
items_of_line-same_text (Class.Header x) l m h = refl
items_of_line-same_text Class.Recipe l m h = rw h refl
items_of_line-same_text Class.Endef l m h = rw h refl
items_of_line-same_text (Class.Body n) l m h = rw h refl
items_of_line-same_text Class.Opaque l m h = rw h refl
items_of_line-same_text (Class.DefineHead p) l m h = rw h refl
items_of_line-same_text Class.If l m h = rw h refl
items_of_line-same_text Class.Else l m h = rw h refl
items_of_line-same_text Class.Endif l m h = rw h refl
items_of_line-same_text Class.Directive l m h = rw h refl
items_of_line-same_text Class.Rough l m h = rw h refl

-- ---- the last line of a text gets its line end

no_line_end-is : (e : End) → has_no_line_end e ≡ true → e ≡ None
no_line_end-is None h = refl
no_line_end-is Lf h = cc
no_line_end-is CrLf h = cc

-- What is known of a line that comes last in a text, and the line that it is with some bytes added.
pub record LineEnded (above : List ClassedLine) (l new : ClassedLine) (added : List ℕ) : Type 0 where
  pub bytes : new.bytes ≡ l.bytes ++ added
  -- the text of the line without its line end stays
  pub same_text : without_line_end new.bytes ≡ without_line_end l.bytes
  -- the line keeps its class and its item
  pub class : new.class ≡ l.class
  pub item : items_of_line new.class new.bytes ≡ items_of_line l.class l.bytes
  -- the line ends a line, and the lines are the others and then this line
  pub ends : Ends new.bytes
  pub lines : classed_lines (text_of above ++ new.bytes) ≡ above ++ new ∷ []

led-longer : (p : ℕ) (x y : List ℕ) (b : ℕ) (t : List ℕ) → x ≡ b ∷ t → is_prefix_led p (x ++ y) ≡ is_prefix_led p x
led-longer p x y b t h = rw h refl

-- the last line of a text, if it is not open, with a line end put after it if it has none
pub line-ended : (t : List ℕ) (above : List ClassedLine) (l : ClassedLine) (e : End) → classed_lines t ≡ above ++ l ∷ [] → is_open l.bytes ≡ false → has_no_line_end e ≡ false
    → LineEnded above l (line_ended e l) (if lacks_line_end l then line_end_bytes e else [])
line-ended t above l e h o k = go (lacks_line_end l) refl
  where
    place : LineInText t above l []
    place = line-in_text t above l [] h

    filled : (b : ℕ) × (r : List ℕ) × (l.bytes ≡ b ∷ r)
    filled = one_line-not_empty l.bytes place.one

    ended : lacks_line_end l ≡ true → IsEnded l.bytes e
    ended n =
        subst (λ z. IsEnded z e) (sym filled.2)
        (line_end-added filled.0 filled.1 e (subst OneLine filled.2 place.one) (ap line_end (sym filled.2) ∙ no_line_end-is (line_end l.bytes) n) (ap is_open (sym filled.2) ∙ o) k)

    same : (n : lacks_line_end l ≡ true) → without_line_end (l.bytes ++ line_end_bytes e) ≡ without_line_end l.bytes
    same n =
        let none : line_end l.bytes ≡ None = no_line_end-is (line_end l.bytes) n in
        (ended n).same_text
        ∙ sym (sym (append-nil (without_line_end l.bytes)) ∙ (ap (λ z. without_line_end l.bytes ++ line_end_bytes z) (sym none) ∙ without_line_end-line_end l.bytes))

    ends : has_no_line_end (line_end l.bytes) ≡ false → Ends l.bytes
    ends n =
        subst Ends (sym filled.2)
        (ends_line-ends (filled.0 ∷ filled.1) (not_open-ends_line filled.0 filled.1 (ap is_open (sym filled.2) ∙ o) (ap (λ z. has_no_line_end (line_end z)) (sym filled.2) ∙ n)))

    go : (b : Bool) → lacks_line_end l ≡ b → LineEnded above l (if b then with_line_end e l else l) (if b then line_end_bytes e else [])
    go true n =
        let m = l.bytes ++ line_end_bytes e in
        let q : class_of (context_of above) m ≡ l.class =
        class_of-same_text (context_of above) m l.bytes (led-longer (context_of above).prefix l.bytes (line_end_bytes e) filled.0 filled.1 filled.2) (same n) ∙ place.class in
        record {
          bytes = refl;
          same_text = same n;
          class = refl;
          item = items_of_line-same_text l.class m l.bytes (same n);
          ends = (ended n).ends;
          lines = ap (λ z. classed_lines (text_of above ++ z)) (sym (append-nil m)) ∙ line-replaced t above l [] m l.class h (ended n).one tt q refl;
        }
    go false n = record {
      bytes = sym (append-nil l.bytes);
      same_text = refl;
      class = refl;
      item = refl;
      ends = ends n;
      lines = ap classed_lines (ap (λ z. text_of above ++ z) (sym (append-nil l.bytes)) ∙ sym place.text) ∙ h;
    }

-- What is known of the lines of a text, and of the lines that they are with some bytes added to the last.
record LastEnded (above new : List ClassedLine) (added : List ℕ) : Type 0 where
  pub text : text_of new ≡ text_of above ++ added
  pub lines : classed_lines (text_of new) ≡ new
  -- the text of each, without its line end, stays
  pub same_texts : map (λ l. without_line_end l.bytes) new ≡ map (λ l. without_line_end l.bytes) above
  -- the lines end a line, have the same items and lead to the same context
  pub ends : Ends (text_of new)
  pub same_items : items new ≡ items above
  pub same_context : context_of new ≡ context_of above

-- the last of some lines gets it
pub last_ended-last : (e : End) (front : List ClassedLine) (l : ClassedLine) → last_ended e (front ++ l ∷ []) ≡ front ++ line_ended e l ∷ []
last_ended-last e [] l = refl
last_ended-last e (x ∷ []) l = refl
last_ended-last e (x ∷ y ∷ front) l = ap (λ z. x ∷ z) (last_ended-last e (y ∷ front) l)

-- the lines of a text whose last line is not open, with a line end put after the last if it has none
last-ended : (t : List ℕ) (above : List ClassedLine) (e : End) → classed_lines t ≡ above → last_passes (λ l. is_open l.bytes) above ≡ false → has_no_line_end e ≡ false
    → LastEnded above (last_ended e above) (missing_line_end e above [])
unfolding Ends
last-ended t [] e h o k = record { text = refl; lines = refl; same_texts = refl; ends = refl; same_items = refl; same_context = refl }
last-ended t (x ∷ xs) e h o k = apart (x ∷ xs) (last-apart x xs) h o
  where
    split : (A : List ClassedLine) (l : ClassedLine) → classed_lines t ≡ A ++ l ∷ [] → is_open l.bytes ≡ false → LastEnded (A ++ l ∷ []) (A ++ line_ended e l ∷ []) (if lacks_line_end l then line_end_bytes e else [])
    split A l h o =
        let new = line_ended e l in
        let added = if lacks_line_end l then line_end_bytes e else [] in
        let E : LineEnded A l new added = line-ended t A l e h o k in
        let place : LineInText t A l [] = line-in_text t A l [] h in
        let whole : text_of (A ++ new ∷ []) ≡ text_of A ++ new.bytes = text_of-append A (new ∷ []) ∙ ap (λ z. text_of A ++ z) (append-nil new.bytes) in
        let old : text_of (A ++ l ∷ []) ≡ text_of A ++ l.bytes = text_of-append A (l ∷ []) ∙ ap (λ z. text_of A ++ z) (append-nil l.bytes) in
        record {
          text = whole ∙ (ap (λ z. text_of A ++ z) E.bytes ∙ (sym (append_assoc (text_of A) l.bytes added) ∙ ap (λ z. z ++ added) (sym old)));
          lines = ap classed_lines whole ∙ E.lines;
          same_texts = map-append (λ z. without_line_end z.bytes) A (new ∷ []) ∙ (ap (λ z. map (λ x. without_line_end x.bytes) A ++ z ∷ []) E.same_text ∙ sym (map-append (λ z. without_line_end z.bytes) A (l ∷ [])));
          ends = subst Ends (sym whole) (Ends-append (text_of A) new.bytes place.begins E.ends);
          same_items = items-append A (new ∷ []) ∙ (ap (λ z. items A ++ (z ++ [])) E.item ∙ sym (items-append A (l ∷ [])));
          same_context = context_of-last A new ∙ (ap (λ z. context_after (context_of A) z) E.class ∙ sym (context_of-last A l));
        }

    apart : (ls : List ClassedLine) (a : LastApart ls) → classed_lines t ≡ ls → last_passes (λ l. is_open l.bytes) ls ≡ false → LastEnded ls (last_ended e ls) (missing_line_end e ls [])
    apart ls a h o =
        let A = a.front in
        let l = a.last in
        let o' : is_open l.bytes ≡ false = sym (last_passes-last (λ z. is_open z.bytes) A l) ∙ (ap (last_passes (λ z. is_open z.bytes)) (sym a.is) ∙ o) in
        let at : LastEnded (A ++ l ∷ []) (last_ended e (A ++ l ∷ [])) (missing_line_end e (A ++ l ∷ []) []) =
        rw (last_ended-last e A l, last_passes-last lacks_line_end A l) (split A l (h ∙ a.is) o') in
        subst (λ (z : List ClassedLine). LastEnded z (last_ended e z) (missing_line_end e z [])) (sym a.is) at

-- ---- a new line

-- A new line put between lines, in front of them or after them: the lines below stay unless they lean on the flag. The lines
-- above stay, except that the last gets a line end if it has none and nothing is below it.
pub line-added : (t : List ℕ) (above below : List ClassedLine) (x : List ℕ) (e : End) (k : Class Cell) → classed_lines t ≡ above ++ below
    → (is_empty below && last_passes (λ l. is_open l.bytes) above) ≡ false → has_no_line_end e ≡ false → IsEnded x e
    → class_of (context_of above) (x ++ line_end_bytes e) ≡ k
    → AgreeButForFlag (context_of above) (context_after (context_of above) k)
    → leans (context_of above).prefix (flag_after (context_of above).flag k) (context_of above).flag below ≡ false
    → classed_lines (text_of above ++ ((missing_line_end e above below ++ (x ++ line_end_bytes e)) ++ text_of below))
    ≡ above_ended e above below ++ record { bytes = x ++ line_end_bytes e; class = k } ∷ below
line-added t above (b ∷ below) x e k h o n m q agree free = line-inserted t above (b ∷ below) (x ++ line_end_bytes e) k h m.one (λ z. cc) m.ends q agree free
line-added t above [] x e k h o n m q agree free =
    let new = last_ended e above in
    let added = missing_line_end e above [] in
    let L : LastEnded above new added = last-ended t above e (h ∙ append-nil above) o n in
    let c : context_of above ≡ context_of new = sym L.same_context in
    let text : text_of above ++ ((added ++ (x ++ line_end_bytes e)) ++ []) ≡ text_of new ++ ((x ++ line_end_bytes e) ++ []) =
    ap (λ z. text_of above ++ z) (append_assoc added (x ++ line_end_bytes e) []) ∙ (sym (append_assoc (text_of above) added ((x ++ line_end_bytes e) ++ [])) ∙ ap (λ z. z ++ ((x ++ line_end_bytes e) ++ [])) (sym L.text)) in
    ap classed_lines text
    ∙ line-inserted (text_of new) new [] (x ++ line_end_bytes e) k (L.lines ∙ sym (append-nil new)) m.one (λ z. L.ends) tt
    (subst (λ (z : Context). class_of z (x ++ line_end_bytes e) ≡ k) c q)
    (subst (λ (z : Context). AgreeButForFlag z (context_after z k)) c agree)
    (subst (λ (z : Context). leans z.prefix (flag_after z.flag k) z.flag [] ≡ false) c free)

-- the lines above have the items that they had
pub items-above_ended : (t : List ℕ) (above below : List ClassedLine) (e : End) → classed_lines t ≡ above ++ below
    → (is_empty below && last_passes (λ l. is_open l.bytes) above) ≡ false → has_no_line_end e ≡ false → items (above_ended e above below) ≡ items above
items-above_ended t above (b ∷ below) e h o n = refl
items-above_ended t above [] e h o n = (last-ended t above e (h ∙ append-nil above) o n).same_items
