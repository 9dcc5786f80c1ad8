-- A header's line with other words: one line, with the same line end, of class Header with these words.
use Rattle.std.proofs.Common.{◌≡◌, refl, sym, ap, ◌∙◌, subst, ℕ, List, [], ◌∷◌, ◌++◌, Bool, true, false, not, append_assoc, reverse}
use Rattle.std.proofs.lemmas.List.{append-nil}
use Rattle.std.specs.Prelude.{nat_lt}
use Rattle.mk_lines.specs.Lists.{concat, FirstFails}
use Rattle.mk_lines.proofs.on_lists.ListLemmas.{concat-append}
use Rattle.mk_lines.specs.Bytes.{byte_kind, is_blank_kind}
use Rattle.mk_lines.specs.Bytes.ByteKind.{Ordinary}
use Rattle.mk_lines.specs.PhysicalLines.{line_end, line_end_bytes, without_line_end}
use Rattle.mk_lines.specs.Cells.{Cell, Byte, joined_byte, raw_text, line_cells}
use Rattle.mk_lines.proofs.on_cells.CellLemmas.{raw_text-append, raw_text-cells}
use Rattle.mk_lines.proofs.on_lines.LineLemmas.{OneLine, EndsBefore}
use Rattle.mk_lines.proofs.on_lines.LineEndLemmas.{KeepsApart, without_line_end-line_end}
use Rattle.mk_lines.proofs.on_cells.LineOfCells.{is_reset, is_reset_kind}
use Rattle.mk_lines.proofs.on_cells.LineCells.{AreLineCells, AreLineCells-left, AreLineCells-right, EndLineBefore, IsLineOf, line-of_cells, line-ends, line-keeps_apart, bytes-are_line_cells}
use Rattle.mk_lines.specs.Units.{units}
use Rattle.mk_class.specs.Symbols.{Symbol, symbol, is_colon}
use Rattle.mk_class.specs.Symbols.Symbol.{Hash, Colon, Semicolon, Equals, Plus, Question, Exclamation, Bar, Ampersand, NoSymbol}
use Rattle.mk_class.proofs.on_symbols.SymbolLemmas.{symbol-unit, colon_symbol-is}
use Rattle.mk_class.specs.CutTexts.{is_in_head, is_head_end_symbol}
use Rattle.mk_class.specs.Headers
use Rattle.mk_class.specs.Headers.{header_units}
use Rattle.mk_class.specs.HeaderFits.{FitsPattern, FitsBar, after_separator, prerequisite_units}
use Rattle.mk_class.proofs.on_assignments.AssignmentLineLemmas.{led-same, cells_class}
use Rattle.mk_class.specs.RecipePrefix.{is_prefix_led}
use Rattle.mk_class.specs.Contexts.{Context}
use Rattle.mk_class.specs.Classes.Class.{Header}
use Rattle.mk_class.specs.ClassTable.{is_unreadable, class_of, plain_class}
use Rattle.mk_class.proofs.on_classes.ClassLemmas.{readable-are_line_cells}
use Rattle.mk_edit_language.proofs.on_lines.HeadUnits.{AllAre, AllAre-left, AllAre-right, IsHeadUnit, IsSolid, EndsSolid, BeginsSolid-before, EndsSolid-after, line_cells-after_solid, line_cells-before_solid}
use Rattle.mk_edit_language.proofs.on_lines.LineTails.{EndsAs, EndsAs-before, KeepsLineEnd, line_end-kept}
use Rattle.mk_edit_language.proofs.on_lines.HeaderLines.{class_at-header}
use Rattle.mk_edit_language.proofs.on_lines.HeaderParts.{HeaderKnown, header-known, FitIn, with_parts, changed-header, colons-solid, colon-is, bar-is, bar-solid, one_byte}

-- ---- the cells of a header's line

-- the units between the targets and the prerequisites
abbrev pub middle_units : Headers.Header Cell → List (List Cell)
middle_units h = h.colons ++ (h.pattern ++ h.second_colon)

-- the cells of the parts
pub header-cells : (h : Headers.Header Cell)
    → concat (header_units h) ≡ concat h.targets ++ (concat (middle_units h) ++ (concat h.normal ++ (concat h.bar ++ (concat h.order_only ++ concat h.tail))))
header-cells h =
    let split : header_units h ≡ h.targets ++ (middle_units h ++ (h.normal ++ (h.bar ++ (h.order_only ++ h.tail)))) = simp append_assoc in
    ap concat split
    ∙ (concat-append h.targets (middle_units h ++ (h.normal ++ (h.bar ++ (h.order_only ++ h.tail))))
    ∙ ap (λ z. concat h.targets ++ z) (concat-append (middle_units h) (h.normal ++ (h.bar ++ (h.order_only ++ h.tail)))
    ∙ ap (λ z. concat (middle_units h) ++ z) (concat-append h.normal (h.bar ++ (h.order_only ++ h.tail))
    ∙ ap (λ z. concat h.normal ++ z) (concat-append h.bar (h.order_only ++ h.tail)
    ∙ ap (λ z. concat h.bar ++ z) (concat-append h.order_only h.tail)))))

-- a `:` that ends cells
colon-ends : (u : List Cell) → is_colon joined_byte u ≡ true → EndsSolid (concat (u ∷ []))
colon-ends u h = record { front = []; last = 58; is = ap (λ z. concat (z ∷ [])) (colon-is u (colon_symbol-is (symbol joined_byte u) h)); ordinary = refl }

-- the cells between join whatever stands on either side
pub middle-solid : (c : Bool) (cs : List Cell) (h : Headers.Header Cell) → HeaderKnown c cs h → IsSolid (concat (middle_units h))
middle-solid c cs h k =
    let all : AllAre IsHeadUnit h.colons = AllAre-left IsHeadUnit h.colons (after_separator h) (AllAre-right IsHeadUnit h.targets (h.colons ++ after_separator h) k.head) in
    let s = colons-solid h.colons h.separator all k.fits.colons_are in
    subst IsSolid (sym (concat-append h.colons (h.pattern ++ h.second_colon)))
    (record { begins = BeginsSolid-before (concat h.colons) (concat (h.pattern ++ h.second_colon)) s.begins; ends = ends h.pattern h.second_colon k.fits.pattern_fits s.ends })
  where
    ends : (p s : List (List Cell)) → FitsPattern joined_byte p s (prerequisite_units h) → EndsSolid (concat h.colons) → EndsSolid (concat h.colons ++ concat (p ++ s))
    ends p [] f e = subst EndsSolid (sym (ap (λ z. concat h.colons ++ concat z) (append-nil p ∙ f.0) ∙ append-nil (concat h.colons))) e
    ends p (u ∷ []) f e =
        EndsSolid-after (concat h.colons) (concat (p ++ u ∷ [])) (subst EndsSolid (sym (concat-append p (u ∷ []))) (EndsSolid-after (concat p) (concat (u ∷ [])) (colon-ends u f.0)))
    ends p (u ∷ v ∷ s) f e = absurd f

-- ---- what follows the head

-- nothing, or a `;` or `#` and any cells
data TailCells (us : List (List Cell)) : Type 0 where
  NoTail : concat us ≡ [] → TailCells us
  SomeTail : (b : ℕ) (D : List Cell) → concat us ≡ Byte b ∷ D → byte_kind b ≡ Ordinary → TailCells us

hash-is : (u : List Cell) → symbol joined_byte u ≡ Hash → u ≡ Byte 35 ∷ []
hash-is u h =
    let s = symbol-unit joined_byte u Hash (λ x. cc) h in
    s.1 ∙ ap (λ z. z ∷ []) (one_byte s.0 35 s.2 (λ x. cc) (λ x. cc))

semicolon-is : (u : List Cell) → symbol joined_byte u ≡ Semicolon → u ≡ Byte 59 ∷ []
semicolon-is u h =
    let s = symbol-unit joined_byte u Semicolon (λ x. cc) h in
    s.1 ∙ ap (λ z. z ∷ []) (one_byte s.0 59 s.2 (λ x. cc) (λ x. cc))

head_end-byte : (u : List Cell) (us : List (List Cell)) (s : Symbol) → symbol joined_byte u ≡ s → not (is_head_end_symbol s) ≡ false → TailCells (u ∷ us)
head_end-byte u us Hash e h = SomeTail 35 (concat us) (ap (λ z. z ++ concat us) (hash-is u e)) refl
head_end-byte u us Semicolon e h = SomeTail 59 (concat us) (ap (λ z. z ++ concat us) (semicolon-is u e)) refl
head_end-byte u us Colon e h = absurd (cc)
head_end-byte u us Equals e h = absurd (cc)
head_end-byte u us Plus e h = absurd (cc)
head_end-byte u us Question e h = absurd (cc)
head_end-byte u us Exclamation e h = absurd (cc)
head_end-byte u us Bar e h = absurd (cc)
head_end-byte u us Ampersand e h = absurd (cc)
head_end-byte u us NoSymbol e h = absurd (cc)

tail-cells : (us : List (List Cell)) → FirstFails (is_in_head joined_byte) us → TailCells us
tail-cells [] h = NoTail refl
tail-cells (u ∷ us) h = head_end-byte u us (symbol joined_byte u) refl h

ordinary-no_blank : (b : ℕ) → byte_kind b ≡ Ordinary → is_blank_kind (byte_kind b) ≡ false
ordinary-no_blank b h = ap is_blank_kind h

ordinary_cell-reset : (b : ℕ) → byte_kind b ≡ Ordinary → is_reset (Byte b) ≡ true
ordinary_cell-reset b h = ap is_reset_kind h

-- cells before it
before-tail : (a : List Cell) (us : List (List Cell)) → TailCells us → AreLineCells a → AreLineCells (concat us) → AreLineCells (a ++ concat us)
before-tail a us (NoTail e) h k = subst AreLineCells (sym (ap (λ z. a ++ z) e ∙ append-nil a)) h
before-tail a us (SomeTail b D e o) h k = line_cells-before_solid a (concat us) h k (record { first = b; rest = D; is = e; no_blank = ordinary-no_blank b o })

-- how cells before it end
tail-ends : (a b : List Cell) (us : List (List Cell)) → TailCells us → EndsAs a b → EndsAs (a ++ concat us) (b ++ concat us)
tail-ends a b us (NoTail e) h = subst (λ z. EndsAs (a ++ z) (b ++ z)) (sym e) (subst (λ z. EndsAs z (b ++ [])) (sym (append-nil a)) (subst (EndsAs a) (sym (append-nil b)) h))
tail-ends a b us (SomeTail x D e o) h = subst (λ z. EndsAs (a ++ z) (b ++ z)) (sym e) (EndsAs-before a b (Byte x) D (ordinary_cell-reset x o))

-- ---- the cells of the new line

-- the parts of the new line, as cells: a line may have the cells of each list, and they end as the old ones did
pub record FitAsCells (h : Headers.Header Cell) (T N B O : List (List Cell)) : Type 0 where
  pub targets : AreLineCells (concat T)
  pub normal : AreLineCells (concat N)
  pub order_only : AreLineCells (concat O)
  pub ends : EndsAs (concat N ++ (concat B ++ concat O)) (concat h.normal ++ (concat h.bar ++ concat h.order_only))

prerequisite-cells : (N B O tail : List (List Cell)) → FitsBar joined_byte B O → TailCells tail → AreLineCells (concat N) → AreLineCells (concat O) → AreLineCells (concat tail)
    → AreLineCells (concat N ++ (concat B ++ (concat O ++ concat tail)))
prerequisite-cells N [] O tail f t n o h =
    subst (λ z. AreLineCells (concat N ++ (concat z ++ concat tail))) (sym f) (before-tail (concat N) tail t n h)
prerequisite-cells N (b ∷ []) O tail f t n o h =
    let q : AreLineCells (concat ((Byte 124 ∷ []) ∷ []) ++ (concat O ++ concat tail)) =
    line_cells-after_solid (concat ((Byte 124 ∷ []) ∷ [])) (concat O ++ concat tail) bar-line_cells (before-tail (concat O) tail t o h) bar-solid.ends in
    subst (λ z. AreLineCells (concat N ++ (concat (z ∷ []) ++ (concat O ++ concat tail)))) (sym (bar-is b f))
    (line_cells-before_solid (concat N) (concat ((Byte 124 ∷ []) ∷ []) ++ (concat O ++ concat tail)) n q (BeginsSolid-before (concat ((Byte 124 ∷ []) ∷ [])) (concat O ++ concat tail) bar-solid.begins))
  where
    bar-line_cells : AreLineCells (concat ((Byte 124 ∷ []) ∷ []))
    bar-line_cells = bytes-are_line_cells (124 ∷ []) (refl, tt)
prerequisite-cells N (b ∷ c ∷ B) O tail f t n o h = absurd f

-- cells that end in an ordinary byte have some raw bytes
pub solid-bytes : (cs : List Cell) → EndsSolid cs → (x : ℕ) × (y : List ℕ) × (raw_text cs ≡ x ∷ y)
solid-bytes cs h = go (raw_text h.front) (ap raw_text h.is ∙ raw_text-append h.front (Byte h.last ∷ []))
  where
    go : (r : List ℕ) → raw_text cs ≡ r ++ h.last ∷ [] → (x : ℕ) × (y : List ℕ) × (raw_text cs ≡ x ∷ y)
    go [] e = (h.last, [], e)
    go (b ∷ r) e = (b, r ++ h.last ∷ [], e)

-- the new line
abbrev pub line_of : (h : Headers.Header Cell) → (end : List ℕ) → List ℕ
line_of h e = raw_text (concat (header_units h)) ++ e

-- one line, with the same line end, of class Header with these parts
pub record IsHeaderWith (c : Context) (l : List ℕ) (below : List (List ℕ)) (h : Headers.Header Cell) : Type 0 where
  pub line : IsLineOf (line_of h (line_end_bytes (line_end l))) (concat (header_units h)) (line_end l) below
  pub class : class_of c (line_of h (line_end_bytes (line_end l))) ≡ Header h

-- a line of class Header that is read: its parts, and what it is in its context
pub record HeaderHere (c : Context) (l : List ℕ) (h : Headers.Header Cell) : Type 0 where
  pub known : HeaderKnown (nat_lt 0 c.conditionals) (line_cells l) h
  pub not_led : is_prefix_led c.prefix l ≡ false
  pub also : (cs : List Cell) → cells_class c false cs ≡ plain_class joined_byte false (nat_lt 0 c.conditionals) (is_unreadable cs) (units joined_byte cs)
  pub whole : l ≡ line_of h (line_end_bytes (line_end l))

-- each line of class Header has such parts
pub header-here : (c : Context) (l : List ℕ) (h : Headers.Header Cell) → class_of c l ≡ Header h → HeaderHere c l h
header-here c l h e =
    let led = is_prefix_led c.prefix l in
    let r = class_at-header led c.defines c.flag (nat_lt 0 c.conditionals) (line_cells l) (units joined_byte (line_cells l)) h e in
    let k = header-known led (nat_lt 0 c.conditionals) (line_cells l) h (readable-are_line_cells l r.here.readable) r.here in
    record {
      known = k;
      not_led = r.here.not_led;
      also = λ cs. ap (λ z. cells_class c z cs) (sym r.here.not_led) ∙ (r.also cs (units joined_byte cs) ∙ ap (λ z. plain_class joined_byte z (nat_lt 0 c.conditionals) (is_unreadable cs) (units joined_byte cs)) r.here.not_led);
      whole = sym (without_line_end-line_end l) ∙ ap (λ z. z ++ line_end_bytes (line_end l)) (sym (raw_text-cells (without_line_end l)) ∙ ap raw_text k.cells_are);
    }

-- A line of class Header with other words: one line, with the same line end, of class Header with these.
pub header-changed : (c : Context) (l : List ℕ) (below : List (List ℕ)) (h : Headers.Header Cell) (T N B O : List (List Cell)) → HeaderHere c l h → OneLine l → EndsBefore l below → FitIn h T N B O → FitAsCells h T N B O
    → is_prefix_led c.prefix (line_of (with_parts h T N B O) (line_end_bytes (line_end l))) ≡ false → IsHeaderWith c l below (with_parts h T N B O)
header-changed c l below h T N B O H o n f g led =
    let k = H.known in
    let new = with_parts h T N B O in
    let M = concat (middle_units h) in
    let s = middle-solid (nat_lt 0 c.conditionals) (line_cells l) h k in
    let tail = tail-cells h.tail k.fits.tail_ends in
    let P' = concat N ++ (concat B ++ (concat O ++ concat h.tail)) in
    let P = concat h.normal ++ (concat h.bar ++ (concat h.order_only ++ concat h.tail)) in
    let old : AreLineCells (concat h.targets ++ (M ++ P)) = subst AreLineCells (header-cells h) k.are_line_cells in
    let old_end : AreLineCells P = AreLineCells-right M P (AreLineCells-right (concat h.targets) (M ++ P) old) in
    let old_middle : AreLineCells M = AreLineCells-left M P (AreLineCells-right (concat h.targets) (M ++ P) old) in
    let old_tail : AreLineCells (concat h.tail) =
    AreLineCells-right (concat h.order_only) (concat h.tail) (AreLineCells-right (concat h.bar) (concat h.order_only ++ concat h.tail) (AreLineCells-right (concat h.normal) (concat h.bar ++ (concat h.order_only ++ concat h.tail)) old_end)) in
    let new_end : AreLineCells P' = prerequisite-cells N B O h.tail f.bar_fits tail g.normal g.order_only old_tail in
    let new_rest : AreLineCells (M ++ P') = line_cells-after_solid M P' old_middle new_end s.ends in
    let cells : AreLineCells (concat T ++ (M ++ P')) = line_cells-before_solid (concat T) (M ++ P') g.targets new_rest (BeginsSolid-before M P' s.begins) in
    let same : concat (header_units new) ≡ concat T ++ (M ++ P') = header-cells new in
    let all : AreLineCells (concat (header_units new)) = subst AreLineCells (sym same) cells in
    let z1 : (concat N ++ (concat B ++ concat O)) ++ concat h.tail ≡ P' = simp append_assoc in
    let z2 : (concat h.normal ++ (concat h.bar ++ concat h.order_only)) ++ concat h.tail ≡ P = simp append_assoc in
    let ends : EndsAs P' P = subst (λ z. EndsAs z P) z1 (subst (EndsAs ((concat N ++ (concat B ++ concat O)) ++ concat h.tail)) z2 (tail-ends (concat N ++ (concat B ++ concat O)) (concat h.normal ++ (concat h.bar ++ concat h.order_only)) h.tail tail g.ends)) in
    let x1 : (concat T ++ M) ++ P' ≡ concat T ++ (M ++ P') = append_assoc (concat T) M P' in
    let x2 : (concat h.targets ++ M) ++ P ≡ concat h.targets ++ (M ++ P) = append_assoc (concat h.targets) M P in
    let before : line_cells l ≡ (concat h.targets ++ M) ++ P = k.cells_are ∙ (header-cells h ∙ sym x2) in
    let kept : KeepsLineEnd (line_end l) ((concat T ++ M) ++ P') below =
    line_end-kept (line_end l) below (concat T ++ M) P' P (EndsSolid-after (concat T) M s.ends) ends (concat h.targets ++ M) (subst AreLineCells (sym x1) cells) (subst AreLineCells (sym x2) old)
    (subst (λ z. KeepsApart (line_end l) (reverse (raw_text z))) before (line-keeps_apart l)) (subst (λ z. EndLineBefore (line_end l) z below) before (line-ends l below o n)) in
    let final : (concat T ++ M) ++ P' ≡ concat (header_units new) = x1 ∙ sym same in
    let some = solid-bytes (concat T ++ M) (EndsSolid-after (concat T) M s.ends) in
    let end = line_end_bytes (line_end l) in
    let bytes : raw_text (concat (header_units new)) ++ end ≡ some.0 ∷ (some.1 ++ (raw_text P' ++ end)) =
    ap (λ z. z ++ end) (ap raw_text (sym final) ∙ (raw_text-append (concat T ++ M) P' ∙ ap (λ z. z ++ raw_text P') some.2)) ∙ ap (λ z. some.0 ∷ z) (append_assoc some.1 (raw_text P') end) in
    let line : IsLineOf (line_of new end) (concat (header_units new)) (line_end l) below =
    line-of_cells (concat (header_units new)) (line_end l) below some.0 (some.1 ++ (raw_text P' ++ end)) all
    (subst (λ z. KeepsApart (line_end l) (reverse (raw_text z))) final kept.apart) (subst (λ z. EndLineBefore (line_end l) z below) final kept.ends) bytes in
    record {
      line = line;
      class =
          ap (λ z. cells_class c z (line_cells (line_of new end))) led
          ∙ (ap (cells_class c false) line.same_cells
          ∙ (H.also (concat (header_units new)) ∙ changed-header (nat_lt 0 c.conditionals) (line_cells l) h T N B O k f all));
    }

-- if the targets stay, the new line begins as the old one did
pub same-not_led : (c : Context) (l : List ℕ) (h : Headers.Header Cell) (N B O : List (List Cell)) → HeaderHere c l h → is_prefix_led c.prefix (line_of (with_parts h h.targets N B O) (line_end_bytes (line_end l))) ≡ false
same-not_led c l h N B O H =
    let M = concat (middle_units h) in
    let F = concat h.targets ++ M in
    let some = solid-bytes F (EndsSolid-after (concat h.targets) M (middle-solid (nat_lt 0 c.conditionals) (line_cells l) h H.known).ends) in
    let end = line_end_bytes (line_end l) in
    let P' = concat N ++ (concat B ++ (concat O ++ concat h.tail)) in
    let P = concat h.normal ++ (concat h.bar ++ (concat h.order_only ++ concat h.tail)) in
    let new : line_of (with_parts h h.targets N B O) end ≡ raw_text F ++ (raw_text P' ++ end) =
    ap (λ z. raw_text z ++ end) (header-cells (with_parts h h.targets N B O) ∙ sym (append_assoc (concat h.targets) M P')) ∙ (ap (λ z. z ++ end) (raw_text-append F P') ∙ append_assoc (raw_text F) (raw_text P') end) in
    let old : l ≡ raw_text F ++ (raw_text P ++ end) =
    H.whole ∙ (ap (λ z. raw_text z ++ end) (header-cells h ∙ sym (append_assoc (concat h.targets) M P)) ∙ (ap (λ z. z ++ end) (raw_text-append F P) ∙ append_assoc (raw_text F) (raw_text P) end)) in
    ap (is_prefix_led c.prefix) new ∙ (led-same c.prefix (raw_text F) (raw_text P' ++ end) (raw_text P ++ end) some.0 some.1 some.2 ∙ (ap (is_prefix_led c.prefix) (sym old) ∙ H.not_led))
