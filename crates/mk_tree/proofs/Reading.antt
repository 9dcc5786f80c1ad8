-- The lines of a text, read one after the other.
use Rattle.std.proofs.Common.{◌≡◌, ◌≢◌, ℕ, suc, ◌+◌, ◌-◌, ◌^◌, ◌<◌, ◌≤◌, ◌||◌, Bool, false, refl, sym, ap, ◌∙◌, subst, arith, List, [], ◌∷◌, ◌++◌, length, take, drop, length-append, append_assoc, append-nil}
use Rattle.std.specs.Prelude.{Result, Ok, Err, IsErr, IsErrAnd, IfErr, slice_range}
use Rattle.std.proofs.Math.Seq.{take-length}
use Rattle.std.proofs.Math.Nat.{add-sub_cancel_left}
use Rattle.std.specs.List.{list_any}
use Rattle.std.proofs.Math.Bool.{or-false, or_assoc}
use Rattle.std.proofs.lemmas.List.{drop-drop, length-drop, length-map}
use Rattle.std.proofs.lemmas.List.Folds.{list_any-append}
use Rattle.mk_lines.specs.Limits.{max_text}
use Rattle.mk_lines.specs.Spans.{Tiles}
use Rattle.mk_lines.specs.LogicalLines.{logical_lines}
use Rattle.mk_lines.proofs.on_lines.LineLemmas.{among, OneLine-logical}
use Rattle.mk_lines.specs.Ranges.{text_at, line_ranges}
use Rattle.mk_lines.proofs.on_lists.RangeLemmas.{line_ranges-text, line_ranges-tiles}
use Rattle.mk_lines.specs.declared.split.Span.{Span}
use Rattle.mk_lines.specs.Cells.{Cell, joined_byte}
use Rattle.mk_class.specs.Classes.{Class}
use Rattle.mk_class.specs.Classes.Class.{Endef, Body, Recipe, Opaque, Blank, Comment, Assign, DefineHead, If, Else, Endif, Directive, TargetAssign, Rough, Header}
use Rattle.mk_class.specs.Contexts.{Context, FitsConditionals, conditionals_after, context_after, context_after_located, max_conditionals, start}
use Rattle.mk_class.specs.LocatedClasses.{located_class}
use Rattle.mk_class.specs.ClassTable.{class_of}
use Rattle.mk_class.specs.CountsOfClasses.{FitsCounts}
use Rattle.mk_class.proofs.on_classes.ClassLemmas.{class_of-counts}
use Rattle.mk_class.specs.ClassedLines.{ClassedLine, classed}
use Rattle.mk_class.specs.LineReads.{IsLineRead, IsPlain}
use Rattle.mk_class.specs.LineReads as line_reads
use Rattle.mk_tree.specs.LocatedLines.{LocatedLine, located_lines, context_after_located_lines, size_of, AreConditionalsFit}
use Rattle.mk_tree.proofs.on_documents.DocumentLemmas.{faithful-text}
use Rattle.mk_tree.specs.Documents.{document_lines, most_conditionals, IsTooDeep}
use Rattle.mk_lines.specs.declared.fault.Fault.{Fault}
use Rattle.mk_lines.specs.declared.fault.Fault.TheVariants.{NoMemory, TooLong, TooDeep, BadDepth, Read, Write}
use Rattle.mk_tree.specs.Faults.{IsReadingFault}
use Rattle.mk_tree.specs.Unread.{UnreadLines, shown_lines, AreTooDeep, AreReadFrom}
use Rattle.mk_tree.specs.UnreadPrefixes.{IsEndOf, is_unread_located}
use Rattle.mk_tree.specs.declared.end.DocEnd.{DocEnd}
use Rattle.mk_tree.specs.Plain.{IsClean, IsFirstLine, IsOneLine}
use Rattle.mk_tree.proofs.PlainLines.{plain-line}
use Rattle.mk_tree.proofs.AdmissionLemmas.{length-classed}
use Rattle.mk_tree.proofs.Indices.{size_of-append, size_of-whole}
use Rattle.mk_tree.proofs.on_changes.Sizes.{size_of-text}

-- ---- the next line

spans-order : (ss : List Span) (from to : ℕ) → Tiles ss from to → from + length ss ≤ to
spans-order [] from to h = omega (arith, h)
spans-order (s ∷ ss) from to h = omega (arith, h.1, spans-order ss s.end to h.2)

-- a text has at most as many lines as bytes
few-lines : (t : List ℕ) → length (logical_lines t) ≤ length t
few-lines t = omega (arith, ap length (line_ranges-text t), length-map (line_ranges t) (text_at t), spans-order (line_ranges t) 0 (length t) (line_ranges-tiles t))

-- The text is read up to `at`, and its next line has `n` bytes.
pub record IsNext (text : List ℕ) (at n : ℕ) : Type 0 where
  pub lines : logical_lines (drop at text) ≡ slice_range text at (at + n) ∷ logical_lines (drop (at + n) text)
  pub single : logical_lines (slice_range text at (at + n)) ≡ slice_range text at (at + n) ∷ []
  pub within : at + n ≤ length text

-- what is left of the text from `at` on
rest-left : (t rest : List ℕ) (at : ℕ) → rest ≡ take (length t - at) (drop at t) → rest ≡ drop at t
rest-left t rest at e = e ∙ (ap (λ n. take n (drop at t)) (sym (length-drop at t)) ∙ take-length (drop at t))

line-left : (t rest : List ℕ) (at n : ℕ) → rest ≡ drop at t → take n rest ≡ slice_range t at (at + n)
line-left t rest at n left = ap (take n) left ∙ ap (λ m. take m (drop at t)) (sym (add-sub_cancel_left at n))

-- the first line of what is left
pub next-line : (t rest : List ℕ) (n at : ℕ) → at ≤ length t → rest ≡ take (length t - at) (drop at t) → IsFirstLine rest n → IsNext t at n
next-line t rest n at within e first =
    let left = rest-left t rest at e in
    let line = line-left t rest at n left in
    let below : drop n rest ≡ drop (at + n) t = ap (drop n) left ∙ (drop-drop n at t ∙ ap (λ m. drop m t) (omega arith)) in
    record {
      lines = ap logical_lines (sym left) ∙ (first.lines ∙ (ap (λ z. take n rest ∷ logical_lines z) below ∙ ap (λ z. z ∷ logical_lines (drop (at + n) t)) line));
      single = subst (λ z. logical_lines z ≡ z ∷ []) line (OneLine-logical (take n rest) ((among rest [] (take n rest) (logical_lines (drop n rest)) first.lines).one));
      within = omega (arith, first.within, ap length left, length-drop at t, within);
    }

-- a line that is one physical line of a clean stretch
pub next-plain : (t rest : List ℕ) (n at clean : ℕ) → rest ≡ take (length t - at) (drop at t) → IsFirstLine rest n → IsClean t at clean → at + n ≤ clean → IsOneLine rest n → IsPlain (slice_range t at (at + n))
next-plain t rest n at clean e first is_clean within one =
    let left = rest-left t rest at e in
    subst IsPlain (ap (take n) (sym left) ∙ line-left t rest at n left)
    (plain-line t at clean n is_clean within first.some (omega (arith, first.within, ap length left)) (subst (λ z. IsOneLine z n) left one))

-- a stretch is clean from a later offset on too
pub clean-further : (t : List ℕ) (at later clean : ℕ) → at ≤ later → IsClean t at clean → IsClean t later clean
clean-further t at later clean order h k above below = h k (omega arith) below

-- the unread lines before a line is read, seen by that line
pub next-seen : (t : List ℕ) (n at : ℕ) (c : Context) (u : Bool) (old : UnreadLines) → IsNext t at n → record { context = c; has_unread_prefix = u; lines = logical_lines (drop at t) } ≡ old
    → record { context = c; has_unread_prefix = u; lines = slice_range t at (at + n) ∷ logical_lines (drop (at + n) t) } ≡ old
next-seen t n at c u old next seen = ap (λ ls. record { context = c; has_unread_prefix = u; lines = ls }) (sym next.lines) ∙ seen

-- ---- conditionals

-- no fewer are open at most than at first
most_conditionals-self : (n : ℕ) (ls : List ClassedLine) → n ≤ most_conditionals n ls
most_conditionals-self n [] = omega arith
most_conditionals-self n (l ∷ ls) = omega arith

-- a line that does not open one too many fits
conditionals-fit : (n m : ℕ) (k : Class Cell) → FitsCounts m n k → (k ≡ If → n < max_conditionals) → FitsConditionals n (located_class joined_byte k)
conditionals-fit n m Endef h p = tt
conditionals-fit n m (Body b) h p = tt
conditionals-fit n m Recipe h p = tt
conditionals-fit n m Opaque h p = tt
conditionals-fit n m Blank h p = tt
conditionals-fit n m Comment h p = tt
conditionals-fit n m (Assign a q) h p = tt
conditionals-fit n m (DefineHead q) h p = tt
conditionals-fit n m If h p = p refl
conditionals-fit n m Else h p = tt
conditionals-fit n m Endif (z, (q, e)) p = omega (arith, e)
conditionals-fit n m Directive h p = tt
conditionals-fit n m (TargetAssign t) h p = tt
conditionals-fit n m Rough h p = tt
conditionals-fit n m (Header x) h p = tt

-- a line that opens one too many makes the lines too deep
opens-deep : (n : ℕ) (k : Class Cell) (rest : List ClassedLine) → (k ≡ If) × (n ≡ max_conditionals) → max_conditionals < most_conditionals (conditionals_after n k) rest
opens-deep n k rest h = subst (λ z. 256 < most_conditionals (conditionals_after n z) rest) (sym h.0) (omega (arith, h.1, most_conditionals-self (suc n) rest))

-- ---- one more line read

-- lines of the same bytes and class are the same
located-same : (l k : LocatedLine) → l.bytes ≡ k.bytes → l.class ≡ k.class → l ≡ k
located-same l k b c = ap (λ z. record { bytes = z; class = l.class }) b ∙ ap (λ z. record { bytes = k.bytes; class = z }) c

pub read-first : (c after : Context) (u v : Bool) (l : List ℕ) (rest : List (List ℕ)) (x : LocatedLine) → x.bytes ≡ l → IsLineRead c l x.class after → v ≡ (u || is_unread_located x)
    → AreReadFrom (record { context = c; has_unread_prefix = u; lines = l ∷ rest }) (x ∷ []) (record { context = after; has_unread_prefix = v; lines = rest })
read-first c after u v l rest x b (k_is, e, few) told =
    let k = class_of c l in
    let here : LocatedLine = record { bytes = l; class = located_class joined_byte k } in
    let next = context_after c k in
    let located : context_after_located c (located_class joined_byte k) ≡ next = refl in
    let old : UnreadLines = record { context = c; has_unread_prefix = u; lines = l ∷ rest } in
    let read : AreReadFrom old (x ∷ []) (record { context = next; has_unread_prefix = v; lines = rest }) = record {
      all = ap (λ z. z ∷ located_lines (classed next rest)) (located-same x here b k_is);
      fit = λ h. (conditionals-fit c.conditionals c.defines k (class_of-counts c l) few, subst (λ (z : Context). AreConditionalsFit z.conditionals (located_lines (classed next rest))) (sym located) h);
      deep = λ h. omega (arith, h);
      context_is = sym located ∙ ap (context_after_located c) (sym k_is);
      unread_is = told ∙ ap (λ z. u || z) (sym (or-false (is_unread_located x)));
    } in
    subst (λ z. AreReadFrom old (x ∷ []) (record { context = z; has_unread_prefix = v; lines = rest })) (sym e) read

-- a line that opens a conditional too many
pub first-deep : (c : Context) (u : Bool) (l : List ℕ) (rest : List (List ℕ)) → line_reads.OpensTooDeep c l → AreTooDeep (record { context = c; has_unread_prefix = u; lines = l ∷ rest })
first-deep c u l rest h =
    omega (arith, opens-deep c.conditionals (class_of c l) (classed (context_after c (class_of c l)) rest) h)

-- the context after some lines and others
pub context_after-append : (c : Context) (ls ks : List LocatedLine) → context_after_located_lines c (ls ++ ks) ≡ context_after_located_lines (context_after_located_lines c ls) ks
context_after-append c [] ks = refl
context_after-append c (l ∷ ls) ks = context_after-append (context_after_located c l.class) ls ks

-- lines were read, and then others
read-then : (first second last : UnreadLines) (left right : List LocatedLine) → AreReadFrom first left second → AreReadFrom second right last → AreReadFrom first (left ++ right) last
read-then first second last left right a b =
    let told = list_any is_unread_located in record {
      all = append_assoc left right (shown_lines last) ∙ (ap (λ z. left ++ z) b.all ∙ a.all);
      fit = λ h. a.fit (b.fit h);
      deep = λ h. a.deep (b.deep h);
      context_is = b.context_is ∙ (ap (λ z. context_after_located_lines z right) a.context_is ∙ sym (context_after-append first.context left right));
      unread_is = b.unread_is ∙ (ap (λ z. z || told right) a.unread_is
          ∙ (or_assoc first.has_unread_prefix (told left) (told right) ∙ ap (λ z. first.has_unread_prefix || z) (sym (list_any-append is_unread_located left right))));
    }

-- some lines were read, then one line, and then others
pub read-joined : (first second third last : UnreadLines) (left right : List LocatedLine) (x : LocatedLine) → AreReadFrom first left second → AreReadFrom second (x ∷ []) third → AreReadFrom third right last
    → AreReadFrom first (left ++ x ∷ right) last
read-joined first second third last left right x a b d = read-then first second last left (x ∷ right) a (read-then second third last (x ∷ []) right b d)

-- the lines that are left have at most as many bytes as all lines
pub left-fits : (old left : UnreadLines) (read : List LocatedLine) → AreReadFrom old read left → size_of (shown_lines old) ≤ max_text → size_of (shown_lines left) ≤ max_text
left-fits old left read h few = omega (arith, ap size_of h.all, size_of-append read (shown_lines left), few)

-- a line that is read and the lines on both sides of it have together at most as many bytes as all lines
pub sides-fit : (old left : UnreadLines) (before after : List LocatedLine) (x : LocatedLine) → AreReadFrom old (before ++ x ∷ after) left → size_of (shown_lines old) ≤ max_text
    → size_of before + length x.bytes + size_of after ≤ max_text
sides-fit old left before after x h few =
    omega (arith, ap size_of h.all, size_of-append (before ++ x ∷ after) (shown_lines left), size_of-whole before after x, few)

-- where a line is read, lines were left
pub read-some : (old left : UnreadLines) (x : LocatedLine) → AreReadFrom old (x ∷ []) left → old.lines ≡ [] → ⊥
read-some old left x h e = omega (arith, ap length (h.all ∙ ap (λ ls. located_lines (classed old.context ls)) e))

-- a text within the limit has fewer lines than a full tree of 25 levels
none-left : (text : List ℕ) (left : UnreadLines) (read : List LocatedLine) (height : ℕ) → length text ≤ max_text → AreReadFrom (record { context = start; has_unread_prefix = false; lines = logical_lines text }) read left
    → (left.lines ≢ [] → (height ≡ 25) × (2 ^ 25 ≤ length read + 1)) → left.lines ≡ []
none-left text left read height short h full = go left.lines refl
  where
    few : length read ≤ max_text
    few = omega (arith, ap length h.all, length-append read (shown_lines left), length-classed start (logical_lines text), few-lines text, short)

    go : (ls : List (List ℕ)) → left.lines ≡ ls → left.lines ≡ []
    go [] none = none
    go (l ∷ ls) some = absurd (omega (arith, few, (full (λ none. omega (arith, ap length (sym some ∙ none)))).1))

-- a tree that is read up to 25 levels has all lines of a text within the limit
pub read-all : (text : List ℕ) (old left : UnreadLines) (read : List LocatedLine) (height : ℕ) → length text ≤ max_text → old ≡ record { context = start; has_unread_prefix = false; lines = logical_lines text } → AreReadFrom old read left
    → (left.lines ≢ [] → (height ≡ 25) × (2 ^ 25 ≤ length read + 1)) → (read ≡ document_lines text) × AreConditionalsFit 0 (document_lines text)
read-all text old left read height short e h full =
    let whole : AreReadFrom (record { context = start; has_unread_prefix = false; lines = logical_lines text }) read left = subst (λ z. AreReadFrom z read left) e h in
    let none = none-left text left read height short whole full in
    let empty : shown_lines left ≡ [] = ap (λ z. located_lines (classed left.context z)) none in (
      sym (append-nil read) ∙ (ap (λ z. read ++ z) (sym empty) ∙ whole.all),
      whole.fit (subst (AreConditionalsFit left.context.conditionals) (sym empty) tt),
    )

-- what the lines that were read leave is where they end
pub end-read : (text : List ℕ) (old left : UnreadLines) (read : List LocatedLine) (end : DocEnd) → old ≡ record { context = start; has_unread_prefix = false; lines = logical_lines text } → AreReadFrom old read left
    → end ≡ record { context = left.context; has_unread_prefix = left.has_unread_prefix } → IsEndOf read end
end-read text old left read end e h same = record {
  context_is = ap (λ (z : DocEnd). z.context) same ∙ (h.context_is ∙ ap (λ (z : UnreadLines). context_after_located_lines z.context read) e);
  unread_is = ap (λ (z : DocEnd). z.has_unread_prefix) same ∙ (h.unread_is ∙ ap (λ (z : UnreadLines). z.has_unread_prefix || list_any is_unread_located read) e);
}

-- ---- the whole text

-- a line that fits leaves no more than 256 open
conditionals-few : (n : ℕ) (k : Class Cell) → n ≤ max_conditionals → FitsConditionals n (located_class joined_byte k) → conditionals_after n k ≤ max_conditionals
conditionals-few n Endef h p = h
conditionals-few n (Body b) h p = h
conditionals-few n Recipe h p = h
conditionals-few n Opaque h p = h
conditionals-few n Blank h p = h
conditionals-few n Comment h p = h
conditionals-few n (Assign a q) h p = h
conditionals-few n (DefineHead q) h p = h
conditionals-few n If h p = omega (arith, p)
conditionals-few n Else h p = h
conditionals-few n Endif h p = omega (arith, h)
conditionals-few n Directive h p = h
conditionals-few n (TargetAssign t) h p = h
conditionals-few n Rough h p = h
conditionals-few n (Header x) h p = h

-- lines whose conditionals fit are not too deep
most_conditionals-fit : (c : Context) (ls : List (List ℕ)) → c.conditionals ≤ max_conditionals → AreConditionalsFit c.conditionals (located_lines (classed c ls)) → most_conditionals c.conditionals (classed c ls) ≤ 256
most_conditionals-fit c [] h k = omega (arith, h)
most_conditionals-fit c (l ∷ ls) h k =
    let kind = class_of c l in
    let next = context_after c kind in
    let few : next.conditionals ≤ max_conditionals = conditionals-few c.conditionals kind h k.0 in
    let fits : AreConditionalsFit next.conditionals (located_lines (classed next ls)) = k.1 in
    omega (arith, h, most_conditionals-fit next ls few fits)

pub shallow : (text : List ℕ) → AreConditionalsFit 0 (document_lines text) → IsTooDeep text → ⊥
shallow text h k = omega (arith, k, most_conditionals-fit start (logical_lines text) (omega arith) h)

-- a fault of reading a line is one of reading the lines
pub fault-of_line : (deep too_deep : Type 0) (fault : Fault) → (deep → too_deep) → IsReadingFault deep fault → IsReadingFault too_deep fault
fault-of_line deep too_deep NoMemory f h = tt
fault-of_line deep too_deep TooLong f h = elim h [ ]
fault-of_line deep too_deep TooDeep f h = f h
fault-of_line deep too_deep BadDepth f h = elim h [ ]
fault-of_line deep too_deep Read f h = elim h [ ]
fault-of_line deep too_deep Write f h = elim h [ ]

-- what holds for each fault that a refused call may hand on holds for the fault that it hands on
pub handed_on : {X : Type 0} (r : Result X Fault) (Q P : Fault → Type 0) → IsErr r × IsErrAnd r Q → ((fault : Fault) → Q fault → P fault) → IfErr r P
handed_on (Ok x) Q P h f = tt
handed_on (Err e) Q P h f = f e h.1

-- ---- the bytes of a document

-- the lines of a text have its bytes
pub size_of-document : (t : List ℕ) → size_of (document_lines t) ≡ length t
size_of-document t = size_of-text (document_lines t) ∙ ap length (faithful-text (document_lines t) t refl)
