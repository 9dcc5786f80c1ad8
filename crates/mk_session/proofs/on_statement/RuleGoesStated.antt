-- What the removal of a rule does to the lines of a makefile, in bytes.
use Rattle.std.proofs.Common.{◌≡◌, refl, sym, ap, ◌∙◌, subst, arith, ℕ, zero, suc, ◌<◌, ◌≤◌, List, [], ◌∷◌, ◌++◌, Bool, true, false, not, ◌&&◌, ◌||◌, ◌==◌, Option, Some, None, inl, inr}
use Rattle.std.specs.Prelude.{◌⊎◌, Ok, nat_lt, All, if◌then◌else◌}
use Rattle.std.specs.List.{list_any}
use Rattle.std.specs.Str.{bytes_eq}
use Rattle.std.proofs.lemmas.Bool.{eqb-true, ltb-false}
use Rattle.std.proofs.lemmas.List.Elements.{All-nil, All-cons}
use Rattle.std.proofs.lemmas.Slice.Eq.{bytes_eq-Decides}
use Rattle.mk_lines.specs.Lists.{concat, leading, after_leading, Each as Every}
use Rattle.mk_lines.proofs.on_lists.BoolLemmas.{or-left_false, or-right_false}
use Rattle.mk_lines.specs.Bytes.{ByteKind, byte_kind, is_blank_kind}
use Rattle.mk_lines.specs.Bytes.ByteKind.{LineFeed, CarriageReturn, Backslash, Blank, Ordinary}
use Rattle.mk_lines.specs.LogicalLines.{logical_lines}
use Rattle.mk_lines.specs.PhysicalLines.{line_end, line_end_bytes, without_line_end}
use Rattle.mk_lines.specs.declared.ends.End.{End}
use Rattle.mk_lines.specs.declared.ends.End.TheVariants as ends
use Rattle.mk_lines.specs.Cells.{Cell, Byte, Fold, LfEnd, CrLfEnd, joined_byte, raw_bytes, raw_text, is_blank_cell, prepend, cells, line_cells}
use Rattle.mk_lines.proofs.on_cells.CellLemmas.{raw_text-append}
use Rattle.mk_lines.specs.Units.{units}
use Rattle.mk_lines.proofs.on_units.UnitLemmas.{concat-units}
use Rattle.mk_lines.specs.Words.{is_gap}
use Rattle.mk_lines.specs.Pieces.{Replacement}
use Rattle.mk_class.specs.ListTests.{is_empty}
use Rattle.mk_class.specs.Symbols.{symbol, is_hash}
use Rattle.mk_class.specs.Symbols.Symbol.{Hash}
use Rattle.mk_class.proofs.on_symbols.SymbolLemmas.{symbol-unit, hash_symbol-is}
use Rattle.mk_class.specs.CutTexts.{cut_text, head, is_no_hash}
use Rattle.mk_class.specs.Assignments.{Assignment, assignment}
use Rattle.mk_class.specs.Separators.{Separated, separated, has_colon, takes_assignment}
use Rattle.mk_class.specs.Headers.{header, is_rough}
use Rattle.mk_class.specs.Texts.{word_texts}
use Rattle.mk_class.specs.RecipePrefix.{is_prefix_led}
use Rattle.mk_class.specs.Classes.{Class, Said, class_said, is_recipe}
use Rattle.mk_class.specs.Contexts.{Context, start, context_after}
use Rattle.mk_class.specs.ClassTable.{class_of, class_at, plain_class, rule_class, header_class, target_class, assign_class, or_class, directive, is_all_blanks, is_unreadable}
use Rattle.mk_class.specs.ClassedLines.{ClassedLine}
use Rattle.mk_class.specs.declared.context.RuleFlag.{RuleFlag}
use Rattle.mk_class.specs.declared.context.RuleFlag.TheVariants as flag
use Rattle.mk_tree.specs.LineTexts.{context_of, bytes_of}
use Rattle.mk_tree.proofs.on_documents.LinesInText.{AreClassed, AreClassed-class, AreClassed-tail, line-in_text, run-in_text}
use Rattle.mk_edit_language.specs.Edits.{OfRule, RemoveLines}
use Rattle.mk_edit_language.specs.Addresses.{is_rule_for}
use Rattle.mk_edit_language.specs.RuleTaken.{is_of_recipe}
use Rattle.mk_edit_language.specs.Refusals.{spans, text_after}
use Rattle.mk_edit_language.proofs.on_recipes.RecipeClassLemmas.{recipe-stands}
use Rattle.mk_edit_language.proofs.on_removals.RuleTakenLemmas.{remove_rule-takes}
use Rattle.mk_edit_language.proofs.on_lines.HeaderParts.{one_byte}
use Rattle.mk_session.specs.Statement.{Has, Lines, IsRecipe, Rule, Become}
use Rattle.mk_session.proofs.on_statement.CellTexts.{has-in, has-left, has-right, has-front, line-bytes}
use Rattle.mk_session.proofs.on_statement.WordEdges.{IsOfKind, kind-is}
use Rattle.mk_session.proofs.on_statement.LineWords.{rule-names}
use Rattle.mk_session.proofs.on_statement.PlacedLines.{Nothing, lines-go}
use Rattle.mk_session.proofs.on_statement.RecipePlaces.{led-is_recipe}

-- ---- bytes of blanks and line ends

-- whether a byte is neither a blank nor of a line end nor a backslash
abbrev is_ink : ℕ → Bool
is_ink b = nat_lt 32 b && not (b == 92)

abbrev HasNoInk : List ℕ → Type 0
HasNoInk t = list_any is_ink t ≡ false

no_ink-cons : (b : ℕ) (t : List ℕ) → is_ink b ≡ false → HasNoInk t → HasNoInk (b ∷ t)
no_ink-cons b t h k = rw (h, k) refl

no_ink-append : (a b : List ℕ) → HasNoInk a → HasNoInk b → HasNoInk (a ++ b)
no_ink-append [] b h k = k
no_ink-append (x ∷ a) b h k = no_ink-cons x (a ++ b) (or-left_false (is_ink x) (list_any is_ink a) h) (no_ink-append a b (or-right_false (is_ink x) (list_any is_ink a) h) k)

abbrev is_ordinary : ByteKind → Bool
is_ordinary Ordinary = true
is_ordinary k = false

-- each byte of a kind of its own
kind-no_ink : (b : ℕ) → is_ordinary (byte_kind b) ≡ false → is_ink b ≡ false
kind-no_ink b h = go (byte_kind b) (kind-is b) h
  where
    at : (n : ℕ) → b ≡ n → is_ink n ≡ false → is_ink b ≡ false
    at n e k = subst (λ z. is_ink z ≡ false) (sym e) k

    go : (k : ByteKind) → IsOfKind k b → is_ordinary k ≡ false → is_ink b ≡ false
    go LineFeed i e = at 10 i refl
    go CarriageReturn i e = at 13 i refl
    go Backslash i e = at 92 i refl
    go Blank (inl i) e = at 32 i refl
    go Blank (inr i) e = at 9 i refl
    go Ordinary i e = absurd (cc)

-- ---- folds have no ink

-- the bytes that are joined to one have no ink
abbrev IsQuietCell : Cell → Type 0
IsQuietCell (Byte b) = Unit {0}
IsQuietCell (Fold r) = HasNoInk r
IsQuietCell (LfEnd r) = HasNoInk r
IsQuietCell (CrLfEnd r) = HasNoInk r

abbrev AreQuietCells : List Cell → Type 0
AreQuietCells [] = Unit {0}
AreQuietCells (c ∷ cs) = IsQuietCell c × AreQuietCells cs

-- a blank among them has no ink either
blank-no_ink : (c : Cell) → IsQuietCell c → is_blank_cell c ≡ true → HasNoInk (raw_bytes c)
blank-no_ink (Byte b) q h = no_ink-cons b [] (kind-no_ink b (go (byte_kind b) h)) refl
  where
    go : (k : ByteKind) → is_blank_kind k ≡ true → is_ordinary k ≡ false
    go Blank e = refl
    go LineFeed e = refl
    go CarriageReturn e = refl
    go Backslash e = refl
    go Ordinary e = absurd (cc)
blank-no_ink (Fold r) q h = q
blank-no_ink (LfEnd r) q h = q
blank-no_ink (CrLfEnd r) q h = q

leading-no_ink : (cs : List Cell) → AreQuietCells cs → HasNoInk (raw_text (leading is_blank_cell cs)) × AreQuietCells (after_leading is_blank_cell cs)
leading-no_ink [] q = (refl, tt)
leading-no_ink (c ∷ cs) q = go (is_blank_cell c) refl (leading-no_ink cs q.1)
  where
    go : (x : Bool) → is_blank_cell c ≡ x → HasNoInk (raw_text (leading is_blank_cell cs)) × AreQuietCells (after_leading is_blank_cell cs)
        → HasNoInk (raw_text (if x then c ∷ leading is_blank_cell cs else [])) × AreQuietCells (if x then after_leading is_blank_cell cs else c ∷ cs)
    go true e h = (no_ink-append (raw_bytes c) (raw_text (leading is_blank_cell cs)) (blank-no_ink c q.0 e) h.0, h.1)
    go false e h = (refl, q)

prepend-quiet : (k : ByteKind) (b : ℕ) (cs : List Cell) → (is_ordinary k ≡ false → is_ink b ≡ false) → AreQuietCells cs → AreQuietCells (prepend k b cs)
prepend-quiet LineFeed b cs h q = let l = leading-no_ink cs q in (no_ink-cons b (raw_text (leading is_blank_cell cs)) (h refl) l.0, l.1)
prepend-quiet CarriageReturn b [] h q = (tt, q)
prepend-quiet CarriageReturn b (LfEnd r ∷ cs) h q = (no_ink-cons b r (h refl) q.0, q.1)
prepend-quiet CarriageReturn b (Byte x ∷ cs) h q = (tt, q)
prepend-quiet CarriageReturn b (Fold r ∷ cs) h q = (tt, q)
prepend-quiet CarriageReturn b (CrLfEnd r ∷ cs) h q = (tt, q)
prepend-quiet Backslash b [] h q = (tt, q)
prepend-quiet Backslash b (LfEnd r ∷ cs) h q = (no_ink-cons b r (h refl) q.0, q.1)
prepend-quiet Backslash b (CrLfEnd r ∷ cs) h q = (no_ink-cons b r (h refl) q.0, q.1)
prepend-quiet Backslash b (Byte x ∷ cs) h q = (tt, q)
prepend-quiet Backslash b (Fold r ∷ cs) h q = (tt, q)
prepend-quiet Blank b [] h q = (tt, q)
prepend-quiet Blank b (Fold r ∷ cs) h q = (no_ink-cons b r (h refl) q.0, q.1)
prepend-quiet Blank b (Byte x ∷ cs) h q = (tt, q)
prepend-quiet Blank b (LfEnd r ∷ cs) h q = (tt, q)
prepend-quiet Blank b (CrLfEnd r ∷ cs) h q = (tt, q)
prepend-quiet Ordinary b cs h q = (tt, q)

cells-quiet : (t : List ℕ) → AreQuietCells (cells t)
cells-quiet [] = tt
cells-quiet (b ∷ t) = prepend-quiet (byte_kind b) b (cells t) (kind-no_ink b) (cells-quiet t)

-- ---- the classes of blank lines and comments

-- what a line of class Blank or Comment says of its units
abbrev IsQuietClass : List (List Cell) → Class Cell → Type 0
IsQuietClass us Class.Blank = (is_all_blanks joined_byte (cut_text joined_byte us) ≡ true) × (list_any (is_hash joined_byte) us ≡ false)
IsQuietClass us Class.Comment = list_any (is_hash joined_byte) us ≡ true
IsQuietClass us k = Unit {0}

module _ (us : List (List Cell)) where
  either : (b : Bool) (x y : Class Cell) → IsQuietClass us x → IsQuietClass us y → IsQuietClass us (if b then x else y)
  either true x y h k = h
  either false x y h k = k

  said-quiet : (s : Said) → IsQuietClass us (class_said s)
  said-quiet Said.Endef = tt
  said-quiet (Said.Body n) = tt
  said-quiet (Said.DefineHead p) = tt
  said-quiet Said.If = tt
  said-quiet Said.Else = tt
  said-quiet Said.Endif = tt
  said-quiet Said.Directive = tt

  target-quiet : (s : Separated Cell) (a : Option (Assignment Cell)) (k : Class Cell) → IsQuietClass us k → IsQuietClass us (target_class s a k)
  target-quiet s None k h = h
  target-quiet s (Some a) k h = tt

  rule-quiet : (vs : List (List Cell)) → IsQuietClass us (rule_class joined_byte vs)
  rule-quiet vs =
      let h : IsQuietClass us (header_class joined_byte vs) = either (is_rough joined_byte (head joined_byte vs) (header joined_byte vs)) Class.Rough (Class.Header (header joined_byte vs)) tt tt in
      let s = separated joined_byte (cut_text joined_byte vs) in
      either (takes_assignment s.separator) (target_class s (assignment joined_byte s.rest) (header_class joined_byte vs)) (header_class joined_byte vs) (target-quiet s (assignment joined_byte s.rest) (header_class joined_byte vs) h) h

  assign-quiet : (c : Bool) (a : Option (Assignment Cell)) (k : Class Cell) → IsQuietClass us k → IsQuietClass us (assign_class joined_byte c a k)
  assign-quiet c None k h = h
  assign-quiet c (Some a) k h = tt

  or-quiet : (o : Option Said) (k : Class Cell) → IsQuietClass us k → IsQuietClass us (or_class o k)
  or-quiet None k h = h
  or-quiet (Some s) k h = said-quiet s

  plain-quiet : (led c un : Bool) → IsQuietClass us (plain_class joined_byte led c un us)
  plain-quiet led c un = go (is_all_blanks joined_byte (cut_text joined_byte us)) refl (list_any (is_hash joined_byte) us) refl
    where
      rest :
          IsQuietClass us
          (if un then Class.Opaque else
          assign_class joined_byte c (assignment joined_byte (cut_text joined_byte us))
          (or_class (directive c (word_texts joined_byte (cut_text joined_byte us)))
          (if led || not (has_colon joined_byte (head joined_byte us)) then Class.Opaque else rule_class joined_byte us)))
      rest =
          either un Class.Opaque _ tt
          (assign-quiet c (assignment joined_byte (cut_text joined_byte us)) _
          (or-quiet (directive c (word_texts joined_byte (cut_text joined_byte us))) _
          (either (led || not (has_colon joined_byte (head joined_byte us))) Class.Opaque (rule_class joined_byte us) tt (rule-quiet us))))

      go : (b : Bool) → is_all_blanks joined_byte (cut_text joined_byte us) ≡ b → (h : Bool) → list_any (is_hash joined_byte) us ≡ h
          → IsQuietClass us
          (if b then (if h then Class.Comment else Class.Blank) else
          (if un then Class.Opaque else
          assign_class joined_byte c (assignment joined_byte (cut_text joined_byte us))
          (or_class (directive c (word_texts joined_byte (cut_text joined_byte us)))
          (if led || not (has_colon joined_byte (head joined_byte us)) then Class.Opaque else rule_class joined_byte us))))
      go true e true f = f
      go true e false f = (e, f)
      go false e h f = rest

  at-quiet : (led : Bool) (n : ℕ) (f : RuleFlag) (c un : Bool) → IsQuietClass us (class_at joined_byte led n f c un us)
  at-quiet true zero flag.Rule c un = tt
  at-quiet true zero flag.Unknown c un = tt
  at-quiet true zero flag.Off c un = plain-quiet true c un
  at-quiet false zero flag.Rule c un = plain-quiet false c un
  at-quiet false zero flag.Unknown c un = plain-quiet false c un
  at-quiet false zero flag.Off c un = plain-quiet false c un
  at-quiet led (suc n) f c un = said-quiet _

class-quiet : (c : Context) (l : List ℕ) (k : Class Cell) → class_of c l ≡ k → IsQuietClass (units joined_byte (line_cells l)) k
class-quiet c l k e =
    subst (IsQuietClass (units joined_byte (line_cells l))) e
    (at-quiet (units joined_byte (line_cells l)) (is_prefix_led c.prefix l) c.defines c.flag (nat_lt 0 c.conditionals) (is_unreadable (line_cells l)))

-- a unit `#`
hash-unit : (u : List Cell) → is_hash joined_byte u ≡ true → u ≡ Byte 35 ∷ []
hash-unit u h =
    let s = symbol-unit joined_byte u Hash (λ x. cc) (hash_symbol-is (symbol joined_byte u) h) in
    s.1 ∙ ap (λ z. z ∷ []) (one_byte s.0 35 s.2 (λ x. cc) (λ x. cc))

-- a comment has one
hash-has : (us : List (List Cell)) → list_any (is_hash joined_byte) us ≡ true → Has (35 ∷ []) (raw_text (concat us))
hash-has [] h = absurd (cc)
hash-has (u ∷ us) h = go (is_hash joined_byte u) refl h (hash-has us)
  where
    whole : raw_text (u ++ concat us) ≡ raw_text u ++ raw_text (concat us)
    whole = raw_text-append u (concat us)

    go : (x : Bool) → is_hash joined_byte u ≡ x → (x || list_any (is_hash joined_byte) us) ≡ true → (list_any (is_hash joined_byte) us ≡ true → Has (35 ∷ []) (raw_text (concat us))) → Has (35 ∷ []) (raw_text (u ++ concat us))
    go true e k more =
        has-in (35 ∷ []) (raw_text (u ++ concat us)) ((35 ∷ []) ++ raw_text (concat us)) (ap (λ z. raw_text (z ++ concat us)) (hash-unit u e)) (has-front (35 ∷ []) (raw_text (concat us)))
    go false e k more = has-in (35 ∷ []) (raw_text (u ++ concat us)) (raw_text u ++ raw_text (concat us)) whole (has-right (35 ∷ []) (raw_text u) (raw_text (concat us)) (more k))

comment-has : (c : Context) (l : List ℕ) → class_of c l ≡ Class.Comment → Has (35 ∷ []) l
comment-has c l e =
    let us = units joined_byte (line_cells l) in
    let h = hash-has us (class-quiet c l Class.Comment e) in
    let end = line_end_bytes (line_end l) in
    has-in (35 ∷ []) l (raw_text (line_cells l) ++ end) (line-bytes l)
    (has-left (35 ∷ []) (raw_text (line_cells l)) end (subst (λ z. Has (35 ∷ []) (raw_text z)) (concat-units joined_byte (line_cells l)) h))

-- a blank line has no ink
gap-no_ink : (u cs : List Cell) → is_gap joined_byte u ≡ true → AreQuietCells (u ++ cs) → HasNoInk (raw_text cs) → HasNoInk (raw_text (u ++ cs))
gap-no_ink [] cs e q h = absurd (cc)
gap-no_ink (x ∷ []) cs e q h = no_ink-append (raw_bytes x) (raw_text cs) (blank-no_ink x q.0 e) h
gap-no_ink (x ∷ y ∷ v) cs e q h = absurd (cc)

quiet-right : (a b : List Cell) → AreQuietCells (a ++ b) → AreQuietCells b
quiet-right [] b h = h
quiet-right (c ∷ a) b h = quiet-right a b h.1

gaps-no_ink : (us : List (List Cell)) → AreQuietCells (concat us) → list_any (is_hash joined_byte) us ≡ false → is_empty (after_leading (is_gap joined_byte) (leading (is_no_hash joined_byte) us)) ≡ true → HasNoInk (raw_text (concat us))
gaps-no_ink [] q h b = refl
gaps-no_ink (u ∷ us) q h b = hash (is_hash joined_byte u) h b (gaps-no_ink us (quiet-right u (concat us) q))
  where
    gap : (x : Bool) → is_gap joined_byte u ≡ x → list_any (is_hash joined_byte) us ≡ false → is_empty (if x then after_leading (is_gap joined_byte) (leading (is_no_hash joined_byte) us) else u ∷ leading (is_no_hash joined_byte) us) ≡ true
        → (list_any (is_hash joined_byte) us ≡ false → is_empty (after_leading (is_gap joined_byte) (leading (is_no_hash joined_byte) us)) ≡ true → HasNoInk (raw_text (concat us))) → HasNoInk (raw_text (u ++ concat us))
    gap false e k c more = absurd (cc)
    gap true e k c more = gap-no_ink u (concat us) e q (more k c)

    hash : (x : Bool) → (x || list_any (is_hash joined_byte) us) ≡ false → is_empty (after_leading (is_gap joined_byte) (if not x then u ∷ leading (is_no_hash joined_byte) us else [])) ≡ true
        → (list_any (is_hash joined_byte) us ≡ false → is_empty (after_leading (is_gap joined_byte) (leading (is_no_hash joined_byte) us)) ≡ true → HasNoInk (raw_text (concat us))) → HasNoInk (raw_text (u ++ concat us))
    hash true k c more = absurd (cc)
    hash false k c more = gap (is_gap joined_byte u) refl k c more

end-no_ink : (e : End) → HasNoInk (line_end_bytes e)
end-no_ink ends.None = refl
end-no_ink ends.Lf = refl
end-no_ink ends.CrLf = refl

blank-line : (c : Context) (l : List ℕ) → class_of c l ≡ Class.Blank → HasNoInk l
blank-line c l e =
    let us = units joined_byte (line_cells l) in
    let B = class-quiet c l Class.Blank e in
    let whole = concat-units joined_byte (line_cells l) in
    let text : HasNoInk (raw_text (concat us)) = gaps-no_ink us (subst AreQuietCells (sym whole) (cells-quiet (without_line_end l))) B.1 B.0 in
    let end = line_end_bytes (line_end l) in
    subst HasNoInk (sym (line-bytes l)) (no_ink-append (raw_text (line_cells l)) end (subst (λ z. HasNoInk (raw_text z)) whole text) (end-no_ink (line_end l)))

-- each byte of a text without ink is a blank, of a line end or a backslash
no_ink-byte : (b : ℕ) → is_ink b ≡ false → (b < 33) ⊎ (b ≡ 92)
no_ink-byte b h = go (nat_lt 32 b) refl (b == 92) refl h
  where
    go : (x : Bool) → nat_lt 32 b ≡ x → (y : Bool) → (b == 92) ≡ y → (x && not y) ≡ false → (b < 33) ⊎ (b ≡ 92)
    go false e y f k = inl (let low : b ≤ 32 = ltb-false 32 b e in omega (arith, low))
    go true e true f k = inr (eqb-true b 92 f)
    go true e false f k = absurd (cc)

no_ink-all : (l : List ℕ) → HasNoInk l → All (λ b. (b < 33) ⊎ (b ≡ 92)) l
no_ink-all [] h = All-nil (λ b. (b < 33) ⊎ (b ≡ 92))
no_ink-all (b ∷ l) h =
    All-cons (λ b. (b < 33) ⊎ (b ≡ 92)) b l (no_ink-byte b (or-left_false (is_ink b) (list_any is_ink l) h)) (no_ink-all l (or-right_false (is_ink b) (list_any is_ink l) h))

-- ---- the lines of a recipe

-- a recipe line, a line with a comment, or a blank line
abbrev IsOfRecipe : (above : Lines) → (line : List ℕ) → Type 0
IsOfRecipe up l = IsRecipe up l ⊎ (Has (35 ∷ []) l ⊎ All (λ b. (b < 33) ⊎ (b ≡ 92)) l)

line-of_recipe : (above : List ClassedLine) (c : Context) (l : List ℕ) (k : Class Cell) → AreClassed start above → (context_of above).prefix ≡ c.prefix → class_of c l ≡ k → is_of_recipe k ≡ true
    → IsOfRecipe (bytes_of above) l × ((context_after c k).prefix ≡ c.prefix)
line-of_recipe above c l Class.Recipe a p e h = (inl (led-is_recipe above l c.prefix a p (recipe-stands c l (ap is_recipe e)).is_led), refl)
line-of_recipe above c l Class.Comment a p e h = (inr (inl (comment-has c l e)), refl)
line-of_recipe above c l Class.Blank a p e h = (inr (inr (no_ink-all l (blank-line c l e))), refl)
line-of_recipe above c l Class.Endef a p e h = absurd (cc)
line-of_recipe above c l (Class.Body d) a p e h = absurd (cc)
line-of_recipe above c l Class.Opaque a p e h = absurd (cc)
line-of_recipe above c l (Class.Assign x q) a p e h = absurd (cc)
line-of_recipe above c l (Class.DefineHead q) a p e h = absurd (cc)
line-of_recipe above c l Class.If a p e h = absurd (cc)
line-of_recipe above c l Class.Else a p e h = absurd (cc)
line-of_recipe above c l Class.Endif a p e h = absurd (cc)
line-of_recipe above c l Class.Directive a p e h = absurd (cc)
line-of_recipe above c l (Class.TargetAssign t) a p e h = absurd (cc)
line-of_recipe above c l Class.Rough a p e h = absurd (cc)
line-of_recipe above c l (Class.Header x) a p e h = absurd (cc)

lines-of_recipe : (above : List ClassedLine) (c : Context) (ls : List ClassedLine) → AreClassed start above → (context_of above).prefix ≡ c.prefix → AreClassed c ls → Every (λ l. is_of_recipe l.class) ls
    → All (IsOfRecipe (bytes_of above)) (bytes_of ls)
lines-of_recipe above c [] a p w h = All-nil (IsOfRecipe (bytes_of above))
lines-of_recipe above c (l ∷ ls) a p w h =
    let L = line-of_recipe above c l.bytes l.class a p (AreClassed-class c l ls w) h.0 in
    All-cons (IsOfRecipe (bytes_of above)) l.bytes (bytes_of ls) L.0 (lines-of_recipe above (context_after c l.class) ls a (p ∙ sym L.1) (AreClassed-tail c l ls w) h.1)

pub no_rule-stated : (nth : Option ℕ) (g t : List ℕ) (rs : List Replacement) → spans t (RemoveLines (OfRule nth g)) ≡ Ok rs
    → Become (Rule g) Nothing (logical_lines t) (logical_lines (text_after t (RemoveLines (OfRule nth g))))
no_rule-stated nth g t rs h =
    let u = text_after t (RemoveLines (OfRule nth g)) in
    let T = remove_rule-takes nth g t rs h in
    let A = T.rule.above in
    let l = T.rule.line in
    let R = run-in_text t A (l ∷ T.recipe) T.rest T.lines_before in
    let L = line-in_text t A l (T.recipe ++ T.rest) T.lines_before in
    let self : bytes_eq g g ≡ true = (bytes_eq-Decides g g).1 refl in
    let one : is_rule_for g (Class.Header T.header) ≡ true = ap (λ ws. list_any (bytes_eq g) ws) T.only_target ∙ ap (λ b. b || false) self in
    let names = rule-names (context_of A) g l.bytes (Class.Header T.header) (L.class ∙ T.is_header) one in
    let prefix : (context_of A).prefix ≡ (context_after (context_of A) l.class).prefix = sym (ap (λ k. (context_after (context_of A) k).prefix) T.is_header) in
    let recipe = lines-of_recipe A (context_after (context_of A) l.class) T.recipe R.above_classed prefix (AreClassed-tail (context_of A) l T.recipe R.run_classed) T.of_recipe in
    lines-go (Rule g) Nothing t u A (l ∷ T.recipe) T.rest T.lines_before T.lines_after (l.bytes, bytes_of T.recipe, refl, names, recipe) refl
