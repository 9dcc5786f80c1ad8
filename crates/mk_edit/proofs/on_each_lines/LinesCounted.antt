-- The places of a line that an edit of several lines replaces, counted: whether the line is changed, how many bytes go and come, and
-- whether the line becomes longer.
use Rattle.std.proofs.Common.{◌≡◌, refl, sym, ap, ◌∙◌, subst, arith, ℕ, zero, suc, ◌+◌, ◌*◌, ◌<◌, ◌≤◌, Bool, true, false, List, [], ◌∷◌, length, Some, None}
use Rattle.std.specs.Prelude.{nat_lt, if◌then◌else◌}
use Rattle.std.specs.List.{list_any}
use Rattle.std.proofs.Math.Dec.{eqb-suc-zero}
use Rattle.std.proofs.lemmas.Bool.{lt-ltb, le-ltb, ltb-true, ltb-false}
use Rattle.memchr.specs.Find.{matches}
use Rattle.mk_lines.specs.Cells.{Cell, line_cells}
use Rattle.mk_lines.specs.Limits.{max_text}
use Rattle.mk_lines.specs.Pieces.{Piece, replacements}
use Rattle.mk_lines.specs.declared.split.Span.{Span}
use Rattle.mk_class.specs.Assignments.{Assignment}
use Rattle.mk_class.specs.Classes.{Class}
use Rattle.mk_class.specs.Classes.Class.{Assign, Recipe}
use Rattle.mk_class.specs.ClassTable.{class_of}
use Rattle.mk_class.specs.ClassedLines.{ClassedLine}
use Rattle.mk_class.specs.Contexts.{Context}
use Rattle.mk_class.specs.LocatedClasses.{located_assignment}
use Rattle.mk_class.specs.declared.assignment.Assignment as offsets
use Rattle.mk_tree.specs.LineTexts.{line_in}
use Rattle.mk_tree.specs.LocatedLines.{LocatedLine, located_line, text_of_line}
use Rattle.mk_edit_language.specs.EachLine.{EachChange, InAssignment, InRecipe, MarkedLine, change_pieces, each_bytes, is_each_changed, marked_pieces, recipe_pieces, recipe_text}
use Rattle.mk_edit_language.specs.Edits.{LineChange, Prepend, ReplaceWord, InsertWord, Substitute, SetOperator}
use Rattle.mk_edit_language.specs.Lengths.{bytes_put, bytes_taken}
use Rattle.mk_edit_language.specs.LineChanges.{line_change_spans, line_pieces}
use Rattle.mk_edit_language.specs.WordPieces.{is_replaced}
use Rattle.mk_edit_language.specs.declared.refusal.Refusal.TheVariants.{Absent}
use Rattle.mk_edit_language.proofs.on_each_line.EachLineSpans.{marked-rises}
use Rattle.mk_edit_language.proofs.on_edits.LengthLemmas.{length-replaced}
use Rattle.mk_edit_parts.specs.LineChangePlaces.{change_places, new_text, raw_ranges, separator_bytes, separator_place, text_places}
use Rattle.mk_edit_parts.specs.RecipeChanges.{recipe_ranges}
use Rattle.mk_edit_parts.specs.RenamedRanges.{bytes_in}
use Rattle.mk_edit_parts.specs.SeenAssignments.{IsAssignmentAt}
use Rattle.mk_edit_parts.proofs.on_recipes.RecipesChanged.{recipe-apart, recipe-pieces}
use Rattle.mk_edit_parts.proofs.on_renaming.PieceRanges.{replacing}
use Rattle.mk_edit_parts.proofs.on_renaming.WrittenLemmas.{apart-bytes, replaced-some, replacing-number}
use Rattle.mk_edit.specs.EachLineSurveys.{IsCountable, IsOfSeveral, IsOwnLine, assignment_counted, gets_longer, no_places, places_counted}
use Rattle.mk_edit.specs.LineChangePlans.{IsAssignmentIn, IsSought, first_of_words, meant_in}
use Rattle.mk_edit.specs.ValueChangeLines.{value_text_located}
use Rattle.mk_edit.specs.declared.each_line_count.PlaceCount.{PlaceCount}
use Rattle.mk_edit.proofs.on_line_changes.LinesMade.{HasPlaces, has-places, is-written}
use Rattle.mk_edit.proofs.on_renaming.SizesOfWords.{put-replacing, taken-replacing}

-- a change of several lines looks for a text that is not empty
pub several-sought : (c : LineChange) → IsOfSeveral c → IsSought c
several-sought (Prepend v) s = tt
several-sought (ReplaceWord w v) s = tt
several-sought (InsertWord i w n) s = absurd s
several-sought (Substitute f t) s = s
several-sought (SetOperator o) s = tt

-- its new text needs no separator
several-text : (c : LineChange) → IsOfSeveral c → (s v : List ℕ) → new_text c s v ≡ new_text c [] v
several-text (Prepend v) k s w = refl
several-text (ReplaceWord x v) k s w = refl
several-text (InsertWord i x n) k s w = absurd k
several-text (Substitute f t) k s w = refl
several-text (SetOperator o) k s w = refl

-- and the words of the value refuse nothing where it finds a place
pub several-one : (c : LineChange) → IsOfSeveral c → (k : ℕ) (v : List ℕ) → 1 ≤ k → first_of_words c k v ≡ None
several-one c s zero v h = absurd (omega (arith, h))
several-one (Prepend w) s (suc k) v h = ap (λ b. if b then Some Absent else None) (eqb-suc-zero k)
several-one (ReplaceWord x w) s (suc k) v h = ap (λ b. if b then Some Absent else None) (eqb-suc-zero k)
several-one (InsertWord i x n) s (suc k) v h = absurd s
several-one (Substitute f t) s (suc k) v h = ap (λ b. if b then Some Absent else None) (eqb-suc-zero k)
several-one (SetOperator o) s (suc k) v h = ap (λ b. if b then Some Absent else None) (eqb-suc-zero k)

none-left : {A : Type 0} (xs : List A) → length xs ≡ zero → xs ≡ []
none-left [] h = refl
none-left (y ∷ ys) h = absurd (omega (arith, h))

-- ---- by the spans of the line

-- Places of a line are those of the line's pieces that are replaced.
record AreOfPieces (q : PlaceCount) (ps : List Piece) : Type 0 where
  some : nat_lt 0 q.count ≡ list_any is_replaced ps
  taken : bytes_taken (replacements 0 ps) ≡ q.bytes
  put : bytes_put (replacements 0 ps) ≡ q.count * q.new

ranges-pieces : (q : PlaceCount) (ps : List Piece) (ss : List Span) (n : List ℕ) → q.count ≡ length ss → q.bytes ≡ bytes_in ss → q.new ≡ length n → replacing n ss ≡ replacements 0 ps → AreOfPieces q ps
ranges-pieces q ps ss n k b m r = record {
  some = ap (nat_lt 0) (k ∙ (sym (replacing-number n ss) ∙ ap length r)) ∙ replaced-some 0 ps;
  taken = ap bytes_taken (sym r) ∙ (taken-replacing n ss ∙ sym b);
  put = ap bytes_put (sym r) ∙ (put-replacing n ss ∙ (ap (λ z. z * length n) (sym k) ∙ ap (λ z. q.count * z) (sym m)));
}

-- ---- the line of an assignment

abbrev counted_at : LineChange → LocatedLine → offsets.Assignment → PlaceCount
counted_at c l at = record {
  count = length (change_places c (text_of_line l) at);
  bytes = bytes_in (raw_ranges (line_cells l.bytes) (change_places c (text_of_line l) at));
  new = length (new_text c [] (value_text_located l));
}

assignment-counted : (c : LineChange) (x : Context) (l : LocatedLine) (a : Assignment Cell) → IsAssignmentIn x l a → assignment_counted c l l.class ≡ counted_at c l (located_assignment 0 a)
assignment-counted c x l a I = ap (assignment_counted c l) I.class_is

assignment-pieces : (c : LineChange) (x : Context) (l : LocatedLine) (a : Assignment Cell) → IsOfSeveral c → IsAssignmentIn x l a → AreOfPieces (counted_at c l (located_assignment 0 a)) (line_pieces c a)
assignment-pieces c x l a s I = go (length ss) refl
  where
    at : offsets.Assignment
    at = located_assignment 0 a

    here : IsAssignmentAt l at
    here = record { prefix = None; class_is = I.class_is }

    ss : List Span
    ss = change_places c (text_of_line l) at

    v : List ℕ
    v = value_text_located l

    n : List ℕ
    n = new_text c (separator_bytes (line_cells l.bytes) (separator_place c (text_of_line l) at)) v

    placed : HasPlaces c l a ss
    placed = has-places c x l a at ss I here (several-sought c s) refl

    number : length ss ≡ length (raw_ranges (line_cells l.bytes) ss)
    number = sym (length-raw ss)
      where
        length-raw : (ts : List Span) → length (raw_ranges (line_cells l.bytes) ts) ≡ length ts
        length-raw [] = refl
        length-raw (t ∷ ts) = omega (arith, length-raw ts)

    same : length (new_text c [] v) ≡ length n
    same = ap length (sym (several-text c s (separator_bytes (line_cells l.bytes) (separator_place c (text_of_line l) at)) v))

    go : (k : ℕ) → length ss ≡ k → AreOfPieces (counted_at c l at) (line_pieces c a)
    go (suc k) e =
        let W = is-written c x l a at ss v n I here (several-sought c s) refl refl (several-one c s (length ss) v (omega (arith, e))) refl in
        ranges-pieces (counted_at c l at) (line_pieces c a) (raw_ranges (line_cells l.bytes) ss) n number refl same W.pieces
    go zero e =
        let spans : line_change_spans c 0 a ≡ [] = none-left (line_change_spans c 0 a) (sym placed.number ∙ e) in
        let ranges : ss ≡ [] = none-left ss e in
        record {
          some = ap (nat_lt 0) placed.number ∙ replaced-some 0 (line_pieces c a);
          taken = ap bytes_taken spans ∙ ap (λ z. bytes_in (raw_ranges (line_cells l.bytes) z)) (sym ranges);
          put = omega (arith, ap bytes_put spans, ap (λ z. length z * length (new_text c [] v)) ranges);
        }

-- ---- any line

-- the places that are counted are those of its pieces
own-pieces : (c : EachChange) (x : Context) (k : ClassedLine) → class_of x k.bytes ≡ k.class → IsOwnLine c x (located_line k) → AreOfPieces (places_counted c (located_line k)) (change_pieces c k.class k.bytes)
own-pieces (InAssignment c) x k h o =
    let I = o.1.is in
    let class : k.class ≡ Assign o.1.assigned None = sym h ∙ I.here in
    subst (λ (q : Class Cell). AreOfPieces (places_counted (InAssignment c) (located_line k)) (change_pieces (InAssignment c) q k.bytes)) (sym class)
    (subst (λ (q : PlaceCount). AreOfPieces q (line_pieces c o.1.assigned)) (sym (assignment-counted c x (located_line k) o.1.assigned I)) (assignment-pieces c x (located_line k) o.1.assigned o.0 I))
own-pieces (InRecipe f t) x k h o =
    let class : k.class ≡ Recipe = sym h ∙ o.1 in
    subst (λ (q : Class Cell). AreOfPieces (places_counted (InRecipe f t) (located_line k)) (change_pieces (InRecipe f t) q k.bytes)) (sym class)
    (ranges-pieces (places_counted (InRecipe f t) (located_line k)) (recipe_pieces f t k.bytes) (recipe_ranges f k.bytes) t refl refl refl (recipe-pieces f o.0 t k.bytes))

-- What is counted tells of the line, which is meant.
pub record IsToldBy (c : EachChange) (q : PlaceCount) (m : MarkedLine) : Type 0 where
  pub changed : nat_lt 0 q.count ≡ is_each_changed c m
  pub taken : bytes_taken (replacements 0 (marked_pieces c m)) ≡ q.bytes
  pub put : bytes_put (replacements 0 (marked_pieces c m)) ≡ q.count * q.new
  pub longer : gets_longer q ≡ nat_lt (length m.line.bytes) (length (each_bytes c m))

-- a test with the same numbers on both sides
turned : (a b c d : ℕ) → c + a ≡ d + b → nat_lt a b ≡ nat_lt d c
turned a b c d h = go (nat_lt a b) refl
  where
    go : (q : Bool) → nat_lt a b ≡ q → q ≡ nat_lt d c
    go true k = let l : a < b = ltb-true a b k in sym (lt-ltb d c (omega (arith, l, h)))
    go false k = let l : b ≤ a = ltb-false a b k in sym (le-ltb d c (omega (arith, l, h)))

pieces-told : (c : EachChange) (q : PlaceCount) (x : Context) (m : MarkedLine) → class_of x m.line.bytes ≡ m.line.class → AreOfPieces q (marked_pieces c m) → IsToldBy c q m
pieces-told c q x m h P =
    let rs = replacements 0 (marked_pieces c m) in
    let size = length-replaced 0 (0 + length m.line.bytes) m.line.bytes rs (marked-rises c x m 0 h) refl in
    record {
      changed = P.some;
      taken = P.taken;
      put = P.put;
      longer = turned q.bytes (q.count * q.new) (length (each_bytes c m)) (length m.line.bytes) (omega (arith, size, P.taken, P.put));
    }

pub own-told : (c : EachChange) (x : Context) (k : ClassedLine) → class_of x k.bytes ≡ k.class → IsOwnLine c x (located_line k) → IsToldBy c (places_counted c (located_line k)) (record { line = k; is_meant = true })
own-told c x k h o = pieces-told c (places_counted c (located_line k)) x (record { line = k; is_meant = true }) h (own-pieces c x k h o)

-- the same of a line that may not be meant
pub none-told : (c : EachChange) (x : Context) (k : ClassedLine) → class_of x k.bytes ≡ k.class → IsToldBy c no_places (record { line = k; is_meant = false })
none-told c x k h = pieces-told c no_places x (record { line = k; is_meant = false }) h (record { some = refl; taken = refl; put = refl })

-- ---- how many there are

pub own-bytes : (c : EachChange) (x : Context) (l : LocatedLine) → IsOwnLine c x l → (places_counted c l).bytes ≤ length l.bytes
own-bytes (InAssignment c) x l o =
    let I = o.1.is in
    let at = located_assignment 0 o.1.assigned in
    let H = has-places c x l o.1.assigned at (change_places c (text_of_line l) at) I (record { prefix = None; class_is = I.class_is }) (several-sought c o.0) refl in
    omega (arith, ap (λ (q : PlaceCount). q.bytes) (assignment-counted c x l o.1.assigned I), apart-bytes 0 (length l.bytes) _ H.apart)
own-bytes (InRecipe f t) x l o = omega (arith, apart-bytes 0 (length l.bytes) (recipe_ranges f l.bytes) (recipe-apart f o.0 l.bytes))

-- ---- what the code counts

-- occurrences of a text have its length each
texts-width : (at n : ℕ) (is : List ℕ) → bytes_in (text_places at n is) ≡ length (text_places at n is) * n
texts-width at n [] = omega arith
texts-width at n (i ∷ is) = omega (arith, texts-width at n is)

pub recipe-width : (f l : List ℕ) → bytes_in (recipe_ranges f l) ≡ length (recipe_ranges f l) * length f
recipe-width f l = texts-width 1 (length f) (matches (recipe_text l) f 0)

-- they are few
pub recipe-few : (c : EachChange) (f t b : List ℕ) (l : LocatedLine) (n : ℕ) → c ≡ InRecipe f t → IsCountable c l → b ≡ l.bytes → n ≡ length (recipe_ranges f b) → n * length f ≤ max_text
recipe-few c f t b l n is C e h =
    let D : IsCountable (InRecipe f t) l = subst (λ k. IsCountable k l) is C in
    let few = own-bytes (InRecipe f t) D.context l D.own in
    let k : n * length f ≡ length (recipe_ranges f l.bytes) * length f = ap (λ z. z * length f) (h ∙ ap (λ z. length (recipe_ranges f z)) e) in
    omega (arith, k, recipe-width f l.bytes, few, D.short)

abbrev place_count : ℕ → ℕ → ℕ → PlaceCount
place_count n b m = record { count = n; bytes = b; new = m }

pub recipe-counted : (c : EachChange) (f t b : List ℕ) (l : LocatedLine) (n : ℕ) → c ≡ InRecipe f t → b ≡ l.bytes → n ≡ length (recipe_ranges f b) → place_count n (n * length f) (length t) ≡ places_counted c l
recipe-counted c f t b l n is e h =
    ap (λ z. place_count z (z * length f) (length t)) (h ∙ ap (λ z. length (recipe_ranges f z)) e)
    ∙ (ap (λ z. place_count (length (recipe_ranges f l.bytes)) z (length t)) (sym (recipe-width f l.bytes)) ∙ ap (λ k. places_counted k l) (sym is))

-- an assignment's line that is changed has a place
pub changed-some : (c : LineChange) (x : Context) (l : LocatedLine) (at : offsets.Assignment) → IsOwnLine (InAssignment c) x l → l ≡ located_line (line_in x l.bytes) → is_each_changed (InAssignment c) (meant_in x l.bytes) ≡ true → IsAssignmentAt l at
    → 1 ≤ length (change_places c (text_of_line l) at)
changed-some c x l at o s h q =
    let T = own-told (InAssignment c) x (line_in x l.bytes) refl (subst (IsOwnLine (InAssignment c) x) s o) in
    let counted : places_counted (InAssignment c) l ≡ counted_at c l at = ap (assignment_counted c l) q.class_is in
    let some = ltb-true 0 (places_counted (InAssignment c) l).count (ap (λ (z : LocatedLine). nat_lt 0 (places_counted (InAssignment c) z).count) s ∙ (T.changed ∙ h)) in
    omega (arith, some, ap (λ (z : PlaceCount). z.count) counted)
