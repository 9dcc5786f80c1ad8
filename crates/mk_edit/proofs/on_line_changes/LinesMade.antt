-- The line of an assignment that is changed: its parts, by what the code knows of it, and what the code makes of them.
use Rattle.std.proofs.Common.{◌≡◌, refl, sym, ap, ◌∙◌, subst, arith, ℕ, ◌+◌, ◌-◌, ◌≤◌, Bool, true, false, List, [], ◌∷◌, ◌++◌, take, drop, length, length-append, Some, None}
use Rattle.std.specs.Prelude.{◌==◌, nat_lt, if◌then◌else◌, slice_range, IfSome}
use Rattle.std.proofs.lemmas.Bool.{ltb-false}
use Rattle.std.proofs.lemmas.List.{drop-take}
use Rattle.mk_lines.specs.Lists.{concat, leading, after_leading, FirstFails, LastFails}
use Rattle.mk_lines.specs.Bytes.{ByteKind, LineFeed, CarriageReturn, Backslash, Blank, Ordinary, byte_kind}
use Rattle.mk_lines.specs.PhysicalLines.{line_end, line_end_bytes, without_line_end}
use Rattle.mk_lines.proofs.on_lines.LineEndLemmas.{without_line_end-line_end}
use Rattle.mk_lines.specs.Cells.{Cell, Byte, Fold, LfEnd, CrLfEnd, joined_byte, joined_text, raw_text, is_blank_cell, prepend, cells, line_cells}
use Rattle.mk_lines.specs.Limits.{max_text}
use Rattle.mk_lines.specs.Pieces.{Piece, Keep, Replace, replacements}
use Rattle.mk_lines.specs.Ranges.{text_at}
use Rattle.mk_lines.specs.declared.split.Span.{Span}
use Rattle.mk_lines.specs.Units.{units}
use Rattle.mk_lines.specs.Words.{tokens, is_gap, words_in}
use Rattle.mk_lines.proofs.on_lists.ListLemmas.{concat-append, leading-after_leading}
use Rattle.mk_class.specs.CutTexts.{cut_text}
use Rattle.mk_class.specs.Assignments.{Assignment, before_value}
use Rattle.mk_class.specs.Classes.Class.{Assign}
use Rattle.mk_class.specs.Contexts.{Context}
use Rattle.mk_class.specs.LineParts.{IsAssignmentLocated}
use Rattle.mk_class.specs.LocatedClasses.{located_assignment}
use Rattle.mk_class.specs.RecipePrefix.{is_prefix_led}
use Rattle.mk_class.specs.Texts.{is_one_of}
use Rattle.mk_class.specs.declared.assignment.Assignment as offsets
use Rattle.mk_class.specs.declared.class.Class as class
use Rattle.mk_class.specs.declared.class.Class.TheVariants as variants
use Rattle.mk_class.proofs.on_classes.ClassLemmas.{plain_class-assign, class_at-assign}
use Rattle.mk_tree.specs.LocatedLines.{LocatedLine, text_of_line}
use Rattle.mk_edit_language.specs.Causes.{where_holds}
use Rattle.mk_edit_language.specs.Edits.{LineChange, Prepend, ReplaceWord, InsertWord, Substitute, SetOperator}
use Rattle.mk_edit_language.specs.LineChanges.{line_pieces, line_change_spans, line_after, stated, value_after}
use Rattle.mk_edit_language.specs.RuleCauses.{count_of_word, not_inserted}
use Rattle.mk_edit_language.specs.declared.edit.Side.{Side}
use Rattle.mk_edit_language.specs.declared.refusal.Refusal.TheVariants.{Absent, Already, Ambiguous}
use Rattle.mk_edit_language.proofs.on_edits.Accepted.{where_holds-none}
use Rattle.mk_edit_parts.specs.LineChangePlaces.{new_text, change_places, separator_place, separator_bytes, separator_text, raw_ranges, CanNote}
use Rattle.mk_edit_parts.specs.RenamedRanges.{span, AreWithin, IsWithin}
use Rattle.mk_edit_parts.specs.RenamedTexts.{AreApart, rewritten}
use Rattle.mk_edit_parts.specs.SeenAssignments.{HasAssignment, IsAssignmentAt, IsAssignmentSeen}
use Rattle.mk_edit_parts.proofs.on_values.ValueCells.{assign-parts}
use Rattle.mk_edit_parts.proofs.on_renaming.PieceRanges.{replacing}
use Rattle.mk_edit.specs.LineChangePlans.{IsAssignmentIn, IsSought, CanRewrite, first_of_words, is_operator, not_inserted_in, value_made}
use Rattle.mk_edit.specs.ValueChangeLines.{value_text_located}
use Rattle.mk_edit.proofs.on_values.OwnLines.{IsValueText, own_line, own-text}
use Rattle.mk_edit.proofs.on_values.ValuePlaces.{assignment-located}
use Rattle.mk_edit.proofs.on_line_changes.OperatorPlaces.{HasOperator, assignment-operator}
use Rattle.mk_edit_parts.proofs.on_line_changes.PiecePlaces.{places, AllBecome}
use Rattle.mk_edit.proofs.on_line_changes.WordsBeside.{beside-number, first_separator, separator_cells, separator-bytes, separator-text}
use Rattle.mk_edit.proofs.on_line_changes.ChangePlaces.{Separates, pieces_said, line-places, line-become, line-within, line-apart, line-can_rewrite, line-rewritten, line-separator, value-made, line-raw, line-can_note}

-- the parts of the line
record HasParts (l : LocatedLine) (a : Assignment Cell) : Type 0 where
  pub rest : List Cell
  pub seen : IsAssignmentSeen l (located_assignment 0 a) a rest
  pub operator : HasOperator a.operator a.flavor
  pub begins : FirstFails (is_gap joined_byte) a.value
  pub ends : LastFails (is_gap joined_byte) a.value

parts-in : (x : Context) (l : LocatedLine) (a : Assignment Cell) → IsAssignmentIn x l a → HasParts l a
parts-in x l a I =
    let p = assign-parts x l.bytes a None I.here in
    let led = is_prefix_led x.prefix l.bytes in
    let cs = line_cells l.bytes in
    let r = class_at-assign led x.defines x.flag (nat_lt 0 x.conditionals) cs (units joined_byte cs) a None I.here in
    let i = plain_class-assign led (nat_lt 0 x.conditionals) cs (units joined_byte cs) a None r.here in
    record {
      rest = concat p.rest;
      seen = record {
        cells_are = p.cells_are ∙ ap (λ z. concat (before_value a) ++ (concat a.value ++ z)) (concat-append a.after p.rest);
        offsets_are = refl;
        located = assignment-located x l.bytes a I.here;
      };
      operator = assignment-operator (tokens joined_byte (cut_text joined_byte (units joined_byte cs))) a i.assigned;
      begins = p.is.are_value.begins;
      ends = p.is.are_value.ends;
    }

-- the offsets of its parts
offsets-are : (x : Context) (l : LocatedLine) (a : Assignment Cell) (at : offsets.Assignment) → IsAssignmentIn x l a → IsAssignmentAt l at → at ≡ located_assignment 0 a
offsets-are x l a at I q =
    let same : variants.Assign at q.prefix ≡ variants.Assign (located_assignment 0 a) None = sym q.class_is ∙ I.class_is in
    cc

-- the code may ask for them
pub has-assignment : (x : Context) (l : LocatedLine) (a : Assignment Cell) (at : offsets.Assignment) → IsAssignmentIn x l a → IsAssignmentAt l at → HasAssignment l at
has-assignment x l a at I q =
    let P = parts-in x l a I in
    let e = offsets-are x l a at I q in
    record { assigned = a; rest = P.rest; seen = record { cells_are = P.seen.cells_are; offsets_are = e; located = subst (λ z. IsAssignmentLocated (line_cells l.bytes) z [] a) (sym e) P.seen.located } }

-- ---- the places

-- the places of the change, as the code finds them
pub record HasPlaces (c : LineChange) (l : LocatedLine) (a : Assignment Cell) (ss : List Span) : Type 0 where
  pub within : AreWithin (length (line_cells l.bytes)) ss
  pub apart : AreApart 0 (length l.bytes) (raw_ranges (line_cells l.bytes) ss)
  pub number : length ss ≡ length (line_change_spans c 0 a)

places-number : (k m : ℕ) (ps : List Piece) → length (places k ps) ≡ length (replacements m ps)
places-number k m [] = refl
places-number k m (Keep cs ∷ ps) = places-number (k + length cs) (m + length (raw_text cs)) ps
places-number k m (Replace cs v ∷ ps) = omega (arith, places-number (k + length cs) (m + length (raw_text cs)) ps)

places-are : (said : List Cell → List ℕ) (c : LineChange) (x : Context) (l : LocatedLine) (a : Assignment Cell) (at : offsets.Assignment) (ss : List Span) → IsAssignmentIn x l a → IsAssignmentAt l at → IsSought c → ss ≡ change_places c (text_of_line l) at
    → ss ≡ places 0 (pieces_said said c a)
places-are said c x l a at ss I q h s =
    let P = parts-in x l a I in
    s ∙ (ap (change_places c (text_of_line l)) (offsets-are x l a at I q) ∙ line-places l a P.rest P.seen said c h P.operator)

pub has-places : (c : LineChange) (x : Context) (l : LocatedLine) (a : Assignment Cell) (at : offsets.Assignment) (ss : List Span) → IsAssignmentIn x l a → IsAssignmentAt l at → IsSought c → ss ≡ change_places c (text_of_line l) at → HasPlaces c l a ss
has-places c x l a at ss I q h s =
    let P = parts-in x l a I in
    subst (HasPlaces c l a) (sym (places-are raw_text c x l a at ss I q h s)) (record {
      within = line-within l a P.rest P.seen raw_text c h;
      apart = line-apart l a P.rest P.seen raw_text c h;
      number = places-number 0 0 (line_pieces c a);
    })

-- ---- the words of the value

-- what the text of the value tells
text-told : (x : Context) (l : LocatedLine) (a : Assignment Cell) (v : List ℕ) → IsAssignmentIn x l a → v ≡ value_text_located l → IsValueText a v
text-told x l a v I h =
    let own : value_text_located l ≡ value_text_located (own_line l.bytes a) = ap (λ (k : class.Class). value_text_located (record { bytes = l.bytes; class = k })) I.class_is in
    own-text x l.bytes a I.here v (h ∙ own)

-- one place is one word that is that beside which a new one goes
one-word : (i : Side) (w n : List ℕ) (x : Context) (l : LocatedLine) (a : Assignment Cell) (at : offsets.Assignment) (ss : List Span) → IsAssignmentIn x l a → IsAssignmentAt l at → ss ≡ change_places (InsertWord i w n) (text_of_line l) at
    → length ss ≡ count_of_word w a
one-word i w n x l a at ss I q s =
    ap length (places-are raw_text (InsertWord i w n) x l a at ss I q tt s) ∙ beside-number i raw_text w n [] (tokens joined_byte a.value) (0 + length (concat (a.before ++ a.name)) + length (concat a.operator))

-- what the words of the value decide of the change
pub words-told : (c : LineChange) (x : Context) (l : LocatedLine) (a : Assignment Cell) (at : offsets.Assignment) (ss : List Span) (v : List ℕ) → IsAssignmentIn x l a → IsAssignmentAt l at → ss ≡ change_places c (text_of_line l) at → v ≡ value_text_located l
    → not_inserted c (Some (Assign a None)) ≡ not_inserted_in c (length ss) v
words-told (Prepend y) x l a at ss v I q s t = refl
words-told (ReplaceWord w y) x l a at ss v I q s t = refl
words-told (Substitute f y) x l a at ss v I q s t = refl
words-told (SetOperator o) x l a at ss v I q s t = refl
words-told (InsertWord i w n) x l a at ss v I q s t =
    ap (λ z. if is_one_of n z then Some Already else where_holds (nat_lt 1 (count_of_word w a)) (Ambiguous (count_of_word w a))) (sym (text-told x l a v I t).words_are)
    ∙ ap (λ k. if is_one_of n (words_in v) then Some Already else where_holds (nat_lt 1 k) (Ambiguous k)) (sym (one-word i w n x l a at ss I q s))

-- a word beside which a new one goes stands once where the change is not refused
at-most-one : (i : Side) (w n : List ℕ) (k : ℕ) (v : List ℕ) → first_of_words (InsertWord i w n) k v ≡ None → k ≤ 1
at-most-one i w n k v h = go (k == 0) (is_one_of n (words_in v)) h
  where
    go : (b d : Bool) → (if b then Some Absent else (if d then Some Already else where_holds (nat_lt 1 k) (Ambiguous k))) ≡ None → k ≤ 1
    go true d e = absurd (cc)
    go false true e = absurd (cc)
    go false false e = ltb-false 1 k (where_holds-none (nat_lt 1 k) (Ambiguous k) e)

-- ---- the separator

-- the code's separator stands in the line
pub separator-within : (c : LineChange) (x : Context) (l : LocatedLine) (a : Assignment Cell) (at : offsets.Assignment) → IsAssignmentIn x l a → IsAssignmentAt l at → IfSome (separator_place c (text_of_line l) at) (IsWithin (length (line_cells l.bytes)))
separator-within (Prepend y) x l a at I q = tt
separator-within (ReplaceWord w y) x l a at I q = tt
separator-within (Substitute f y) x l a at I q = tt
separator-within (SetOperator o) x l a at I q = tt
separator-within (InsertWord i w n) x l a at I q =
    let P = parts-in x l a I in
    subst (λ z. IfSome (separator_place (InsertWord i w n) (text_of_line l) z) (IsWithin (length (line_cells l.bytes)))) (sym (offsets-are x l a at I q)) (line-separator l a P.rest P.seen i w n P.begins P.ends).within

-- and separates the new word from the other, as a text that is made of its cells
separates : (said : List Cell → List ℕ) (c : LineChange) (x : Context) (l : LocatedLine) (a : Assignment Cell) (at : offsets.Assignment) (ss : List Span) (v s : List ℕ) → IsAssignmentIn x l a → IsAssignmentAt l at → ss ≡ change_places c (text_of_line l) at
    → first_of_words c (length ss) v ≡ None → s ≡ said (separator_cells (line_cells l.bytes) (separator_place c (text_of_line l) at)) → Separates said c a s
separates said (Prepend y) x l a at ss v s I q p h e = tt
separates said (ReplaceWord w y) x l a at ss v s I q p h e = tt
separates said (Substitute f y) x l a at ss v s I q p h e = tt
separates said (SetOperator o) x l a at ss v s I q p h e = tt
separates said (InsertWord i w n) x l a at ss v s I q p h e =
    let P = parts-in x l a I in
    let C = (line-separator l a P.rest P.seen i w n P.begins P.ends).cells in
    let o : separator_cells (line_cells l.bytes) (separator_place (InsertWord i w n) (text_of_line l) at) ≡ first_separator i w [] (tokens joined_byte a.value) =
    ap (λ z. separator_cells (line_cells l.bytes) (separator_place (InsertWord i w n) (text_of_line l) z)) (offsets-are x l a at I q) ∙ C in
    let k : length ss ≤ 1 = at-most-one i w n (length ss) v h in
    (omega (arith, k, one-word i w n x l a at ss I q p), e ∙ ap said o)

-- ---- what the code makes of the line

-- its bytes, by the places of the change and the text that goes there
pub record IsWritten (c : LineChange) (l : LocatedLine) (a : Assignment Cell) (ss : List Span) (n : List ℕ) : Type 0 where
  pub bytes : rewritten l.bytes n (raw_ranges (line_cells l.bytes) ss) ≡ line_after c l.bytes a
  pub pieces : replacing n (raw_ranges (line_cells l.bytes) ss) ≡ line_change_spans c 0 a

pub is-written : (c : LineChange) (x : Context) (l : LocatedLine) (a : Assignment Cell) (at : offsets.Assignment) (ss : List Span) (v n : List ℕ) → IsAssignmentIn x l a → IsAssignmentAt l at → IsSought c
    → ss ≡ change_places c (text_of_line l) at → v ≡ value_text_located l → first_of_words c (length ss) v ≡ None
    → n ≡ new_text c (separator_bytes (line_cells l.bytes) (separator_place c (text_of_line l) at)) v → IsWritten c l a ss n
is-written c x l a at ss v n I q h s t one w =
    let P = parts-in x l a I in
    let o = separator_place c (text_of_line l) at in
    let d = separates raw_text c x l a at ss v (separator_bytes (line_cells l.bytes) o) I q s one (separator-bytes (line_cells l.bytes) o) in
    let all : AllBecome n (line_pieces c a) = subst (λ z. AllBecome z (line_pieces c a)) (sym w) (line-become raw_text c a (separator_bytes (line_cells l.bytes) o) v (text-told x l a v I t).empty_is d) in
    subst (λ z. IsWritten c l a z n) (sym (places-are raw_text c x l a at ss I q h s)) (record { bytes = line-rewritten l a P.rest P.seen c n h all; pieces = line-raw l a P.rest P.seen c n h all })

-- its value, by the text that goes there as it is read
pub record IsSaid (c : LineChange) (l : LocatedLine) (a : Assignment Cell) (at : offsets.Assignment) (ss : List Span) (n : List ℕ) : Type 0 where
  pub can : CanRewrite c (text_of_line l) at ss n
  pub value : value_made c (text_of_line l) at ss n ≡ value_after c a.value

pub is-said : (c : LineChange) (x : Context) (l : LocatedLine) (a : Assignment Cell) (at : offsets.Assignment) (ss : List Span) (v n : List ℕ) → IsAssignmentIn x l a → IsAssignmentAt l at → IsSought c
    → ss ≡ change_places c (text_of_line l) at → v ≡ value_text_located l → first_of_words c (length ss) v ≡ None
    → n ≡ new_text c (separator_text (text_of_line l) (separator_place c (text_of_line l) at)) v → IsSaid c l a at ss n
is-said c x l a at ss v n I q h s t one w =
    let P = parts-in x l a I in
    let o = separator_place c (text_of_line l) at in
    let d = separates joined_text c x l a at ss v (separator_text (text_of_line l) o) I q s one (separator-text (line_cells l.bytes) o) in
    let all : AllBecome n (pieces_said joined_text c a) = subst (λ z. AllBecome z (pieces_said joined_text c a)) (sym w) (line-become joined_text c a (separator_text (text_of_line l) o) v (text-told x l a v I t).empty_is d) in
    let M : IsSaid c l a (located_assignment 0 a) (places 0 (pieces_said joined_text c a)) n = record { can = line-can_rewrite l a P.rest P.seen joined_text c n h all; value = value-made l a P.rest P.seen c n h all } in
    subst (λ z. IsSaid c l a z ss n) (sym (offsets-are x l a at I q)) (subst (λ z. IsSaid c l a (located_assignment 0 a) z n) (sym (places-are joined_text c x l a at ss I q h s)) M)

-- the value is the end of the front
value-behind : (t : List ℕ) (s e : ℕ) → s ≤ e → drop s (slice_range t 0 e) ≡ slice_range t s e
value-behind t s e h = ap (λ z. drop s (take z t)) (let q : e - 0 ≡ s + (e - s) = omega (arith, h) in q) ∙ drop-take s (e - s) t

-- the value that the line is said to have, by the front that a change of the operator leaves
pub said-left : (c : LineChange) (t : List ℕ) (at : offsets.Assignment) (ss : List Span) (n : List ℕ) → at.value.start ≤ at.value.end → is_operator c ≡ true
    → stated c (drop at.value.start (text_at t (span 0 at.value.end))) ≡ value_made c t at ss n
said-left (Prepend v) t at ss n r h = absurd (cc)
said-left (ReplaceWord w v) t at ss n r h = absurd (cc)
said-left (InsertWord i w v) t at ss n r h = absurd (cc)
said-left (Substitute f v) t at ss n r h = absurd (cc)
said-left (SetOperator o) t at ss n r h = value-behind t at.value.start at.value.end r

-- a line has no more cells than bytes
prepend-count : (k : ByteKind) (b : ℕ) (cs : List Cell) → length (prepend k b cs) ≤ length cs + 1
prepend-count LineFeed b cs =
    let e = ap length (leading-after_leading is_blank_cell cs) in
    omega (arith, e, length-append (leading is_blank_cell cs) (after_leading is_blank_cell cs))
prepend-count CarriageReturn b [] = omega arith
prepend-count CarriageReturn b (Byte x ∷ cs) = omega arith
prepend-count CarriageReturn b (Fold r ∷ cs) = omega arith
prepend-count CarriageReturn b (LfEnd r ∷ cs) = omega arith
prepend-count CarriageReturn b (CrLfEnd r ∷ cs) = omega arith
prepend-count Backslash b [] = omega arith
prepend-count Backslash b (Byte x ∷ cs) = omega arith
prepend-count Backslash b (Fold r ∷ cs) = omega arith
prepend-count Backslash b (LfEnd r ∷ cs) = omega arith
prepend-count Backslash b (CrLfEnd r ∷ cs) = omega arith
prepend-count Blank b [] = omega arith
prepend-count Blank b (Byte x ∷ cs) = omega arith
prepend-count Blank b (Fold r ∷ cs) = omega arith
prepend-count Blank b (LfEnd r ∷ cs) = omega arith
prepend-count Blank b (CrLfEnd r ∷ cs) = omega arith
prepend-count Ordinary b cs = omega arith

cells-count : (t : List ℕ) → length (cells t) ≤ length t
cells-count [] = omega arith
cells-count (b ∷ t) = omega (arith, prepend-count (byte_kind b) b (cells t), cells-count t)

line_cells-count : (l : List ℕ) → length (line_cells l) ≤ length l
line_cells-count l =
    omega (arith, cells-count (without_line_end l), ap length (without_line_end-line_end l), length-append (without_line_end l) (line_end_bytes (line_end l)))

-- the places can be noted
pub can-note : (c : LineChange) (x : Context) (l : LocatedLine) (a : Assignment Cell) (at : offsets.Assignment) → IsAssignmentIn x l a → IsAssignmentAt l at → IsSought c → length l.bytes ≤ max_text
    → CanNote (line_cells l.bytes) (change_places c (text_of_line l) at)
can-note c x l a at I q h short =
    let P = parts-in x l a I in
    subst (λ z. CanNote (line_cells l.bytes) (change_places c (text_of_line l) z)) (sym (offsets-are x l a at I q))
    (line-can_note l a P.rest P.seen c h P.operator short (omega (arith, line_cells-count l.bytes, short)))
