-- The parts of a header's line, and other parts put in the place of the words: a line of class Header again.
use Rattle.std.proofs.Common.{◌≡◌, refl, sym, ap, ◌∙◌, subst, ℕ, List, [], ◌∷◌, ◌++◌, map, Bool, true, false, not, ◌&&◌, ◌||◌, None, append_assoc}
use Rattle.std.specs.List.{list_any}
use Rattle.std.proofs.lemmas.Bool.{or_parts, or_from}
use Rattle.std.proofs.lemmas.List.{map-append}
use Rattle.mk_lines.specs.Lists.{concat, Each}
use Rattle.mk_lines.proofs.on_lists.ListLemmas.{Each-append, concat-append, leading-append_all}
use Rattle.mk_lines.specs.Cells.{Cell, Byte, Fold, LfEnd, CrLfEnd, joined_byte}
use Rattle.mk_lines.specs.CellFaults.{has_stray, has_bad_fold}
use Rattle.mk_lines.proofs.on_cells.LineCells.{AreLineCells}
use Rattle.mk_lines.specs.Units.{units}
use Rattle.mk_lines.proofs.on_units.UnitLemmas.{units-last, concat-units}
use Rattle.mk_lines.specs.Words.{Token, Gap, Word, tokens, before_tokens, token_units, is_gap, IsWord}
use Rattle.mk_lines.proofs.on_units.TokenLemmas.{token_units-tokens, tokens-are_tokens}
use Rattle.mk_class.specs.ListTests.{is_empty, first_passes, last_passes}
use Rattle.mk_class.specs.Texts.{word_texts}
use Rattle.mk_class.specs.Symbols.{Symbol, symbol, is_colon, is_bar, is_ampersand}
use Rattle.mk_class.specs.Symbols.Symbol.{Colon, Bar, Ampersand, NoSymbol}
use Rattle.mk_class.proofs.on_symbols.SymbolLemmas.{symbol-unit, symbol-no_gap, bar_symbol-is}
use Rattle.mk_class.specs.CutTexts.{cut_text, head as head_at, is_in_head}
use Rattle.mk_class.specs.Separators.{has_colon}
use Rattle.mk_class.specs.Headers
use Rattle.mk_class.specs.Headers.{is_no_bar, is_no_colon, has_unreadable, has_colon_after_other, has_third_separator, has_bad_bar, has_second_bar, has_bad_pattern, is_rough, header_units}
use Rattle.mk_class.proofs.on_headers.HeadersWhole.{header-whole}
use Rattle.mk_class.specs.HeaderFits.{FitsHeader, FitsPattern, FitsBar, head_units, after_separator, prerequisite_units, separator_symbols}
use Rattle.mk_class.proofs.on_headers.HeaderFitsLemmas.{header-fits}
use Rattle.mk_class.specs.Classes.Class.{Header}
use Rattle.mk_class.specs.ClassTable.{is_unreadable, directive, plain_class}
use Rattle.mk_class.proofs.on_classes.ClassLemmas.{has_stray-append, has_stray-left, has_stray-right}
use Rattle.mk_class.specs.declared.rule.Separator.{Separator}
use Rattle.mk_class.specs.declared.rule.Separator.TheVariants.{SingleColon, DoubleColon, GroupedColon, GroupedDoubleColon}
use Rattle.mk_edit_language.proofs.on_lines.HeadUnits.{AllAre, AllAre-append, AllAre-left, AllAre-right, IsHeadUnit, IsSolid, first_units-are_head_units, head_units-again, head_units-no_stray, head_units-readable, head_units-in_head}
use Rattle.mk_edit_language.proofs.on_lines.HeadWords.{word-solid}
use Rattle.mk_edit_language.proofs.on_lines.DirectiveWords.{AlikeTokens, BeginsWithColon, alike-say_same, same-no_directive}
use Rattle.mk_edit_language.proofs.on_lines.HeaderLines.{IsHeaderLine, MakeHeader, is_rough_made, made-header, header_units-head, header-cut}

-- a unit of targets or prerequisites: one that can be read, and is no `:` and no `|`
pub record IsPartUnit (u : List Cell) : Type 0 where
  pub head : IsHeadUnit u
  pub no_colon : is_colon joined_byte u ≡ false
  pub no_bar : is_bar joined_byte u ≡ false

pub part-head : (us : List (List Cell)) → AllAre IsPartUnit us → AllAre IsHeadUnit us
part-head [] h = tt
part-head (u ∷ us) h = (h.0.head, part-head us h.1)

part-no_colon : (us : List (List Cell)) → AllAre IsPartUnit us → Each (is_no_colon joined_byte) us
part-no_colon [] h = tt
part-no_colon (u ∷ us) h = (ap not h.0.no_colon, part-no_colon us h.1)

part-no_bar : (us : List (List Cell)) → AllAre IsPartUnit us → Each (is_no_bar joined_byte) us
part-no_bar [] h = tt
part-no_bar (u ∷ us) h = (ap not h.0.no_bar, part-no_bar us h.1)

part-has_colon : (us : List (List Cell)) → AllAre IsPartUnit us → has_colon joined_byte us ≡ false
part-has_colon [] h = refl
part-has_colon (u ∷ us) h = ap (λ z. z || has_colon joined_byte us) h.0.no_colon ∙ part-has_colon us h.1

part-any_bar : (us : List (List Cell)) → AllAre IsPartUnit us → list_any (is_bar joined_byte) us ≡ false
part-any_bar [] h = refl
part-any_bar (u ∷ us) h = ap (λ z. z || list_any (is_bar joined_byte) us) h.0.no_bar ∙ part-any_bar us h.1

-- units of a head without a `:` and a `|`
pub parts-of : (us : List (List Cell)) → AllAre IsHeadUnit us → has_colon joined_byte us ≡ false → list_any (is_bar joined_byte) us ≡ false → AllAre IsPartUnit us
parts-of [] h c b = tt
parts-of (u ∷ us) h c b =
    let p = or_parts (is_colon joined_byte u) (has_colon joined_byte us) c in
    let q = or_parts (is_bar joined_byte u) (list_any (is_bar joined_byte) us) b in
    (record { head = h.0; no_colon = p.0; no_bar = q.0 }, parts-of us h.1 p.1 q.1)

-- if each unit fails the test, none passes it
pub no-each : (p : List Cell → Bool) (us : List (List Cell)) → Each (λ u. not (p u)) us → list_any p us ≡ false
no-each p [] h = refl
no-each p (u ∷ us) h = ap (λ z. z || list_any p us) (is (p u) h.0) ∙ no-each p us h.1
  where
    is : (b : Bool) → not b ≡ true → b ≡ false
    is true e = cc
    is false e = refl

-- ---- a `:` and a `|`

-- a cell of a byte other than a space and a line feed
pub one_byte : (c : Cell) (b : ℕ) → joined_byte c ≡ b → (b ≡ 32 → ⊥) → (b ≡ 10 → ⊥) → c ≡ Byte b
one_byte (Byte x) b h n m = ap Byte h
one_byte (Fold r) b h n m = absurd (n (sym h))
one_byte (LfEnd r) b h n m = absurd (m (sym h))
one_byte (CrLfEnd r) b h n m = absurd (m (sym h))

-- the unit of a `|`
pub bar-is : (u : List Cell) → is_bar joined_byte u ≡ true → u ≡ Byte 124 ∷ []
bar-is u h =
    let s = symbol-unit joined_byte u Bar (λ x. cc) (bar_symbol-is (symbol joined_byte u) h) in
    s.1 ∙ ap (λ z. z ∷ []) (one_byte s.0 124 s.2 (λ x. cc) (λ x. cc))

-- the unit of a `:`
pub colon-is : (u : List Cell) → symbol joined_byte u ≡ Colon → u ≡ Byte 58 ∷ []
colon-is u h =
    let s = symbol-unit joined_byte u Colon (λ x. cc) h in
    s.1 ∙ ap (λ z. z ∷ []) (one_byte s.0 58 s.2 (λ x. cc) (λ x. cc))

-- a `|` is a unit of a head that can be read
bar-head_unit : IsHeadUnit (Byte 124 ∷ [])
bar-head_unit = record { whole = refl; closed = refl; no_stray = refl; readable = refl; in_head = refl }

pub bar-solid : IsSolid (concat ((Byte 124 ∷ []) ∷ []))
bar-solid = record {
  begins = record { first = 124; rest = []; is = refl; no_blank = refl };
  ends = record { front = []; last = 124; is = refl; ordinary = refl };
}

symbol-not_gap : (u : List Cell) (s : Symbol) → (NoSymbol ≡ s → ⊥) → symbol joined_byte u ≡ s → is_gap joined_byte u ≡ false
symbol-not_gap u s n h = symbol-no_gap joined_byte u (λ k. n (sym k ∙ h))

-- the units of a separator are no gaps
colons-word : (us : List (List Cell)) (s : Separator) → map (symbol joined_byte) us ≡ separator_symbols s → IsWord joined_byte us
colons-word [] SingleColon h = cc
colons-word (u ∷ []) SingleColon h = symbol-not_gap u Colon (λ x. cc) (cc)
colons-word (u ∷ v ∷ us) SingleColon h = cc
colons-word [] DoubleColon h = cc
colons-word (u ∷ []) DoubleColon h = cc
colons-word (u ∷ v ∷ []) DoubleColon h = (symbol-not_gap u Colon (λ x. cc) (cc), symbol-not_gap v Colon (λ x. cc) (cc))
colons-word (u ∷ v ∷ w ∷ us) DoubleColon h = cc
colons-word [] GroupedColon h = cc
colons-word (u ∷ []) GroupedColon h = cc
colons-word (u ∷ v ∷ []) GroupedColon h = (symbol-not_gap u Ampersand (λ x. cc) (cc), symbol-not_gap v Colon (λ x. cc) (cc))
colons-word (u ∷ v ∷ w ∷ us) GroupedColon h = cc
colons-word [] GroupedDoubleColon h = cc
colons-word (u ∷ []) GroupedDoubleColon h = cc
colons-word (u ∷ v ∷ []) GroupedDoubleColon h = cc
colons-word (u ∷ v ∷ w ∷ []) GroupedDoubleColon h = (symbol-not_gap u Ampersand (λ x. cc) (cc), (symbol-not_gap v Colon (λ x. cc) (cc), symbol-not_gap w Colon (λ x. cc) (cc)))
colons-word (u ∷ v ∷ w ∷ x ∷ us) GroupedDoubleColon h = cc

-- the cells of a separator join whatever stands beside them
pub colons-solid : (us : List (List Cell)) (s : Separator) → AllAre IsHeadUnit us → map (symbol joined_byte) us ≡ separator_symbols s → IsSolid (concat us)
colons-solid us s a h = word-solid us (colons-word us s h) a

-- a separator's first word has a `:`
pub colons-begin : (us rest : List (List Cell)) (s : Separator) → map (symbol joined_byte) us ≡ separator_symbols s → BeginsWithColon (us ++ rest)
colons-begin us rest s h = go s us h
  where
    first : (u : List Cell) (xs : List (List Cell)) (ts : List (Token Cell)) → is_gap joined_byte u ≡ false → tokens joined_byte xs ≡ ts
        → (w : List (List Cell)) × (r : List (Token Cell)) × (tokens joined_byte (u ∷ xs) ≡ Word (u ∷ w) ∷ r)
    first u xs [] g e = ([], [], ap (before_tokens (is_gap joined_byte u) u) e ∙ ap (λ z. before_tokens z u []) g)
    first u xs (Gap x ∷ ts) g e = ([], Gap x ∷ ts, ap (before_tokens (is_gap joined_byte u) u) e ∙ ap (λ z. before_tokens z u (Gap x ∷ ts)) g)
    first u xs (Word w ∷ ts) g e = (w, ts, ap (before_tokens (is_gap joined_byte u) u) e ∙ ap (λ z. before_tokens z u (Word w ∷ ts)) g)

    at_colon : (u : List Cell) (xs : List (List Cell)) → symbol joined_byte u ≡ Colon → BeginsWithColon (u ∷ xs)
    at_colon u xs e =
        let g : is_gap joined_byte u ≡ false = symbol-no_gap joined_byte u (λ n. let k : NoSymbol ≡ Colon = sym n ∙ e in cc) in
        let f = first u xs (tokens joined_byte xs) g refl in
        record { word = u ∷ f.0; rest = f.1; is = f.2; colon = ([], map joined_byte (concat f.0), ap (λ z. map joined_byte (z ++ concat f.0)) (colon-is u e)) }

    after_ampersand : (u v : List Cell) (xs : List (List Cell)) → symbol joined_byte u ≡ Ampersand → symbol joined_byte v ≡ Colon → BeginsWithColon (u ∷ v ∷ xs)
    after_ampersand u v xs e f =
        let g : is_gap joined_byte u ≡ false = symbol-no_gap joined_byte u (λ n. let k : NoSymbol ≡ Ampersand = sym n ∙ e in cc) in
        let c = at_colon v xs f in
        record {
          word = u ∷ c.word;
          rest = c.rest;
          is = ap (before_tokens (is_gap joined_byte u) u) c.is ∙ ap (λ z. before_tokens z u (Word c.word ∷ c.rest)) g;
          colon = (
            map joined_byte u ++ c.colon.0,
            c.colon.1,
            map-append joined_byte u (concat c.word) ∙ (ap (λ z. map joined_byte u ++ z) c.colon.2 ∙ sym (append_assoc (map joined_byte u) c.colon.0 (58 ∷ c.colon.1))),
          );
        }

    go : (s : Separator) (us : List (List Cell)) → map (symbol joined_byte) us ≡ separator_symbols s → BeginsWithColon (us ++ rest)
    go SingleColon [] h = cc
    go SingleColon (u ∷ us) h = let e : symbol joined_byte u ≡ Colon = cc in at_colon u (us ++ rest) e
    go DoubleColon [] h = cc
    go DoubleColon (u ∷ us) h = let e : symbol joined_byte u ≡ Colon = cc in at_colon u (us ++ rest) e
    go GroupedColon [] h = cc
    go GroupedColon (u ∷ []) h = cc
    go GroupedColon (u ∷ v ∷ us) h = let e : symbol joined_byte u ≡ Ampersand = cc in let f : symbol joined_byte v ≡ Colon = cc in after_ampersand u v (us ++ rest) e f
    go GroupedDoubleColon [] h = cc
    go GroupedDoubleColon (u ∷ []) h = cc
    go GroupedDoubleColon (u ∷ v ∷ us) h = let e : symbol joined_byte u ≡ Ampersand = cc in let f : symbol joined_byte v ≡ Colon = cc in after_ampersand u v (us ++ rest) e f

-- ---- the parts of a header's line

-- whether a unit is no gap
abbrev pub is_no_gap : List Cell → Bool
is_no_gap u = not (is_gap joined_byte u)

-- whether a `|` is no word by itself
abbrev pub is_bar_glued : (normal bar order_only : List (List Cell)) → Bool
is_bar_glued n b o = not (is_empty b) && (last_passes is_no_gap n || first_passes is_no_gap o)

-- what is known of the parts of a line of class Header
pub record HeaderKnown (c : Bool) (cs : List Cell) (h : Headers.Header Cell) : Type 0 where
  pub fits : FitsHeader joined_byte h
  pub units_are : units joined_byte cs ≡ header_units h
  pub cells_are : cs ≡ concat (header_units h)
  pub are_line_cells : AreLineCells (concat (header_units h))
  pub no_stray : has_stray (concat (header_units h)) ≡ false
  pub head : AllAre IsHeadUnit (head_units h)
  pub targets : AllAre IsPartUnit h.targets
  pub normal : AllAre IsPartUnit h.normal
  pub order_only : AllAre IsPartUnit h.order_only
  pub pattern_no_bar : list_any (is_bar joined_byte) h.pattern ≡ false
  pub bar_apart : is_bar_glued h.normal h.bar h.order_only ≡ false
  pub colon_after : has_colon_after_other joined_byte h ≡ false
  pub pattern_one : has_bad_pattern joined_byte h ≡ false
  pub undirected : directive c (word_texts joined_byte (cut_text joined_byte (header_units h))) ≡ None

-- the parts of a line of class Header
pub header-known : (led c : Bool) (cs : List Cell) (h : Headers.Header Cell) → AreLineCells cs → IsHeaderLine led c cs (units joined_byte cs) h → HeaderKnown c cs h
header-known led c cs h a l =
    let us = units joined_byte cs in
    let whole : header_units h ≡ us = ap header_units (sym l.is) ∙ header-whole joined_byte us in
    let f : FitsHeader joined_byte h = subst (FitsHeader joined_byte) l.is (header-fits joined_byte us l.colon l.not_rough) in
    let front : head_at joined_byte us ≡ head_units h =
    ap (head_at joined_byte) (sym whole ∙ header_units-head h) ∙ leading-append_all (is_in_head joined_byte) (head_units h) h.tail f.in_head f.tail_ends in
    let rough : is_rough joined_byte (head_units h) h ≡ false = ap (λ z. is_rough joined_byte z h) (sym front) ∙ (ap (λ z. is_rough joined_byte (head_at joined_byte us) z) (sym l.is) ∙ l.not_rough) in
    let r0 = or_parts (has_unreadable joined_byte (head_units h)) (is_rough_made h) rough in
    let r1 = or_parts (has_colon_after_other joined_byte h) _ r0.1 in
    let r2 = or_parts (has_third_separator joined_byte h) _ r1.1 in
    let r3 = or_parts (has_bad_bar joined_byte h) _ r2.1 in
    let r4 = or_parts (has_second_bar joined_byte h) _ r3.1 in
    let third = or_parts (has_colon joined_byte h.normal) (has_colon joined_byte h.order_only) r2.0 in
    let bad = or_parts (list_any (is_bar joined_byte) h.targets || list_any (is_bar joined_byte) h.pattern) (is_bar_glued h.normal h.bar h.order_only) r3.0 in
    let bars = or_parts (list_any (is_bar joined_byte) h.targets) (list_any (is_bar joined_byte) h.pattern) bad.0 in
    let cells : cs ≡ concat (header_units h) = sym (concat-units joined_byte cs) ∙ ap concat (sym whole) in
    let stray : has_stray (concat (header_units h)) ≡ false = ap has_stray (sym cells) ∙ (or_parts (has_stray cs) (has_bad_fold cs) l.readable).0 in
    let joined : concat (header_units h) ≡ concat (head_units h) ++ concat h.tail = ap concat (header_units-head h) ∙ concat-append (head_units h) h.tail in
    let again : units joined_byte (concat (head_units h ++ h.tail)) ≡ head_units h ++ h.tail =
    ap (λ z. units joined_byte (concat z)) (sym (header_units-head h)) ∙ (ap (units joined_byte) (sym cells) ∙ (sym whole ∙ header_units-head h)) in
    let all : AllAre IsHeadUnit (head_units h) =
    first_units-are_head_units (head_units h) h.tail again (has_stray-left (concat (head_units h)) (concat h.tail) (ap has_stray (sym joined) ∙ stray)) r0.0 f.in_head in
    let after : AllAre IsHeadUnit (after_separator h) = AllAre-right IsHeadUnit h.colons (after_separator h) (AllAre-right IsHeadUnit h.targets (h.colons ++ after_separator h) all) in
    let pre : AllAre IsHeadUnit (prerequisite_units h) = AllAre-right IsHeadUnit h.second_colon (prerequisite_units h) (AllAre-right IsHeadUnit h.pattern (h.second_colon ++ prerequisite_units h) after) in
    record {
      fits = f;
      units_are = sym whole;
      cells_are = cells;
      are_line_cells = subst AreLineCells cells a;
      no_stray = stray;
      head = all;
      targets = parts-of h.targets (AllAre-left IsHeadUnit h.targets (h.colons ++ after_separator h) all) (no-each (is_colon joined_byte) h.targets f.no_colon) bars.0;
      normal = parts-of h.normal (AllAre-left IsHeadUnit h.normal (h.bar ++ h.order_only) pre) third.0 (no-each (is_bar joined_byte) h.normal f.no_bar);
      order_only = parts-of h.order_only (AllAre-right IsHeadUnit h.bar h.order_only (AllAre-right IsHeadUnit h.normal (h.bar ++ h.order_only) pre)) third.1 r4.0;
      pattern_no_bar = bars.1;
      bar_apart = bad.1;
      colon_after = r1.0;
      pattern_one = r4.1;
      undirected = ap (λ z. directive c (word_texts joined_byte (cut_text joined_byte z))) whole ∙ l.undirected;
    }

-- ---- other parts in their place

-- a header with other targets and prerequisites
abbrev pub with_parts : (h : Headers.Header Cell) → (targets normal bar order_only : List (List Cell)) → Headers.Header Cell
with_parts h t n b o = record h { targets = t; normal = n; bar = b; order_only = o }

-- parts that may stand in their place
pub record FitIn (h : Headers.Header Cell) (T N B O : List (List Cell)) : Type 0 where
  pub targets : AllAre IsPartUnit T
  pub normal : AllAre IsPartUnit N
  pub order_only : AllAre IsPartUnit O
  pub bar_fits : FitsBar joined_byte B O
  pub bar_apart : is_bar_glued N B O ≡ false
  pub targets_apart : (last_passes (is_ampersand joined_byte) T && first_passes (is_colon joined_byte) h.colons) ≡ false
  pub alike : AlikeTokens (tokens joined_byte h.targets) (tokens joined_byte T)

bar-units : (B O : List (List Cell)) → FitsBar joined_byte B O → AllAre IsHeadUnit B
bar-units [] O h = tt
bar-units (b ∷ []) O h = (subst IsHeadUnit (sym (bar-is b h)) bar-head_unit, tt)
bar-units (b ∷ c ∷ B) O h = absurd h

-- the units of the prerequisites have no `:`
prerequisites-no_colon : (N B O : List (List Cell)) → AllAre IsPartUnit N → FitsBar joined_byte B O → AllAre IsPartUnit O → Each (is_no_colon joined_byte) (N ++ (B ++ O))
prerequisites-no_colon N B O n b o = Each-append (is_no_colon joined_byte) N (B ++ O) (part-no_colon N n) (Each-append (is_no_colon joined_byte) B O (bars B b) (part-no_colon O o))
  where
    bars : (B : List (List Cell)) → FitsBar joined_byte B O → Each (is_no_colon joined_byte) B
    bars [] h = tt
    bars (b ∷ []) h = (ap (λ z. is_no_colon joined_byte z) (bar-is b h), tt)
    bars (b ∷ c ∷ B) h = absurd h

first-no_colon : (us : List (List Cell)) → Each (is_no_colon joined_byte) us → first_passes (is_colon joined_byte) us ≡ false
first-no_colon [] h = refl
first-no_colon (u ∷ us) h = go (is_colon joined_byte u) h.0
  where
    go : (b : Bool) → not b ≡ true → b ≡ false
    go true e = cc
    go false e = refl

rest-apart : (p s old new : List (List Cell)) → FitsPattern joined_byte p s old → first_passes (is_colon joined_byte) (p ++ (s ++ old)) ≡ false → Each (is_no_colon joined_byte) new
    → first_passes (is_colon joined_byte) (p ++ (s ++ new)) ≡ false
rest-apart [] [] old new f h n = first-no_colon new n
rest-apart [] (c ∷ s) old new f h n = h
rest-apart (u ∷ p) s old new f h n = h

pattern-fits : (p s old new : List (List Cell)) → FitsPattern joined_byte p s old → Each (is_no_colon joined_byte) new → FitsPattern joined_byte p s new
pattern-fits p [] old new f n = (f.0, n)
pattern-fits p (c ∷ []) old new f n = f
pattern-fits p (c ∷ d ∷ s) old new f n = absurd f

-- the head of the new parts
changed-head : (h : Headers.Header Cell) (T N B O : List (List Cell)) → AllAre IsHeadUnit (head_units h) → FitIn h T N B O → AllAre IsHeadUnit (head_units (with_parts h T N B O))
changed-head h T N B O a f =
    let cs = AllAre-right IsHeadUnit h.targets (h.colons ++ after_separator h) a in
    let ps = AllAre-right IsHeadUnit h.colons (after_separator h) cs in
    let ss = AllAre-right IsHeadUnit h.pattern (h.second_colon ++ prerequisite_units h) ps in
    let pre : AllAre IsHeadUnit (N ++ (B ++ O)) = AllAre-append IsHeadUnit N (B ++ O) (part-head N f.normal) (AllAre-append IsHeadUnit B O (bar-units B O f.bar_fits) (part-head O f.order_only)) in
    AllAre-append IsHeadUnit T (h.colons ++ (h.pattern ++ (h.second_colon ++ (N ++ (B ++ O))))) (part-head T f.targets)
    (AllAre-append IsHeadUnit h.colons (h.pattern ++ (h.second_colon ++ (N ++ (B ++ O)))) (AllAre-left IsHeadUnit h.colons (after_separator h) cs)
    (AllAre-append IsHeadUnit h.pattern (h.second_colon ++ (N ++ (B ++ O))) (AllAre-left IsHeadUnit h.pattern (h.second_colon ++ prerequisite_units h) ps)
    (AllAre-append IsHeadUnit h.second_colon (N ++ (B ++ O)) (AllAre-left IsHeadUnit h.second_colon (prerequisite_units h) ss) pre)))

changed-fits : (h : Headers.Header Cell) (T N B O : List (List Cell)) → FitsHeader joined_byte h → AllAre IsHeadUnit (head_units h) → FitIn h T N B O → FitsHeader joined_byte (with_parts h T N B O)
changed-fits h T N B O k a f =
    let n = prerequisites-no_colon N B O f.normal f.bar_fits f.order_only in
    record {
      in_head = head_units-in_head (head_units (with_parts h T N B O)) (changed-head h T N B O a f);
      tail_ends = k.tail_ends;
      no_colon = part-no_colon T f.targets;
      targets_apart = f.targets_apart;
      colons_are = k.colons_are;
      rest_apart = rest-apart h.pattern h.second_colon (prerequisite_units h) (N ++ (B ++ O)) k.pattern_fits k.rest_apart n;
      pattern_fits = pattern-fits h.pattern h.second_colon (prerequisite_units h) (N ++ (B ++ O)) k.pattern_fits n;
      no_bar = part-no_bar N f.normal;
      bar_fits = f.bar_fits;
    }

-- the new line is no directive
changed-undirected : (c : Bool) (h : Headers.Header Cell) (T N B O : List (List Cell)) → FitsHeader joined_byte h → FitsHeader joined_byte (with_parts h T N B O) → AlikeTokens (tokens joined_byte h.targets) (tokens joined_byte T)
    → directive c (word_texts joined_byte (cut_text joined_byte (header_units h))) ≡ None → directive c (word_texts joined_byte (cut_text joined_byte (header_units (with_parts h T N B O)))) ≡ None
changed-undirected c h T N B O k f a d =
    let K = cut_text joined_byte h.tail in
    let X = h.colons ++ (after_separator h ++ K) in
    let Y = h.colons ++ ((h.pattern ++ (h.second_colon ++ (N ++ (B ++ O)))) ++ K) in
    let old : cut_text joined_byte (header_units h) ≡ token_units (tokens joined_byte h.targets) ++ X =
    header-cut h k.in_head ∙ (append_assoc h.targets (h.colons ++ after_separator h) K
    ∙ (ap (λ z. h.targets ++ z) (append_assoc h.colons (after_separator h) K) ∙ ap (λ z. z ++ X) (sym (token_units-tokens joined_byte h.targets)))) in
    let new : cut_text joined_byte (header_units (with_parts h T N B O)) ≡ token_units (tokens joined_byte T) ++ Y =
    header-cut (with_parts h T N B O) f.in_head ∙ (append_assoc T (h.colons ++ (h.pattern ++ (h.second_colon ++ (N ++ (B ++ O))))) K
    ∙ (ap (λ z. T ++ z) (append_assoc h.colons (h.pattern ++ (h.second_colon ++ (N ++ (B ++ O)))) K) ∙ ap (λ z. z ++ Y) (sym (token_units-tokens joined_byte T)))) in
    let s = alike-say_same (tokens joined_byte h.targets) (tokens joined_byte T) X Y (tokens-are_tokens joined_byte h.targets) (tokens-are_tokens joined_byte T) a
    (colons-begin h.colons (after_separator h ++ K) h.separator k.colons_are) (colons-begin h.colons ((h.pattern ++ (h.second_colon ++ (N ++ (B ++ O)))) ++ K) h.separator k.colons_are) in
    ap (λ z. directive c (word_texts joined_byte z)) new
    ∙ same-no_directive c (word_texts joined_byte (token_units (tokens joined_byte h.targets) ++ X)) (word_texts joined_byte (token_units (tokens joined_byte T) ++ Y)) s
    (ap (λ z. directive c (word_texts joined_byte z)) (sym old) ∙ d)

-- The line with other parts is of class Header with these parts, if its cells are cells that a line may have.
pub changed-header : (c : Bool) (cs : List Cell) (h : Headers.Header Cell) (T N B O : List (List Cell)) → HeaderKnown c cs h → FitIn h T N B O → AreLineCells (concat (header_units (with_parts h T N B O)))
    → plain_class joined_byte false c (is_unreadable (concat (header_units (with_parts h T N B O)))) (units joined_byte (concat (header_units (with_parts h T N B O)))) ≡ Header (with_parts h T N B O)
changed-header c cs h T N B O k f a =
    let g = with_parts h T N B O in
    let all = changed-head h T N B O k.head f in
    let fits = changed-fits h T N B O k.fits k.head f in
    let joined : concat (header_units g) ≡ concat (head_units g) ++ concat h.tail = ap concat (header_units-head g) ∙ concat-append (head_units g) h.tail in
    let old : concat (header_units h) ≡ concat (head_units h) ++ concat h.tail = ap concat (header_units-head h) ∙ concat-append (head_units h) h.tail in
    let stray : has_stray (concat (header_units g)) ≡ false =
    ap has_stray joined ∙ has_stray-append (concat (head_units g)) (concat h.tail) (head_units-no_stray (head_units g) all) (has_stray-right (concat (head_units h)) (concat h.tail) (ap has_stray (sym old) ∙ k.no_stray)) in
    let tail : units joined_byte (concat h.tail) ≡ h.tail = units-last joined_byte cs (head_units h) h.tail (k.units_are ∙ header_units-head h) in
    let again : units joined_byte (concat (header_units g)) ≡ header_units g =
    ap (λ z. units joined_byte (concat z)) (header_units-head g) ∙ (head_units-again (head_units g) h.tail all tail ∙ sym (header_units-head g)) in
    let m : MakeHeader c (concat (header_units g)) g = record {
      fits = fits;
      readable = or_from (has_stray (concat (header_units g))) (has_bad_fold (concat (header_units g))) stray a.clean.1;
      units_readable = head_units-readable (head_units g) all;
      not_rough =
          or_from (has_colon_after_other joined_byte g) _ k.colon_after
          (or_from (has_third_separator joined_byte g) _ (or_from (has_colon joined_byte N) (has_colon joined_byte O) (part-has_colon N f.normal) (part-has_colon O f.order_only))
          (or_from (has_bad_bar joined_byte g) _ (or_from (list_any (is_bar joined_byte) T || list_any (is_bar joined_byte) h.pattern) (is_bar_glued N B O) (or_from (list_any (is_bar joined_byte) T) (list_any (is_bar joined_byte) h.pattern) (part-any_bar T f.targets) k.pattern_no_bar) f.bar_apart)
          (or_from (has_second_bar joined_byte g) (has_bad_pattern joined_byte g) (part-any_bar O f.order_only) k.pattern_one)));
      undirected = changed-undirected c h T N B O k.fits fits f.alike k.undirected;
    } in
    ap (plain_class joined_byte false c (is_unreadable (concat (header_units g)))) again ∙ made-header c (concat (header_units g)) g m
