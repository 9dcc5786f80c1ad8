-- Values: what a text that may be a value is among the cells of a line.
use Rattle.std.proofs.Common.{◌≡◌, refl, sym, ap, ◌∙◌, subst, ℕ, List, [], ◌∷◌, ◌++◌, map, Bool, true, false, not, ◌||◌, ◌==◌}
use Rattle.std.specs.List.{list_any}
use Rattle.std.proofs.lemmas.Bool.{and_parts, not-true}
use Rattle.mk_lines.specs.Lists.{concat, Each, FirstFails, LastFails}
use Rattle.mk_lines.specs.Bytes.{ByteKind, byte_kind, is_blank_kind, is_backslash_kind, is_blank_byte}
use Rattle.mk_lines.specs.Bytes.ByteKind.{LineFeed, CarriageReturn, Backslash, Blank, Ordinary}
use Rattle.mk_lines.specs.Cells.{Cell, Byte, joined_byte}
use Rattle.mk_lines.specs.CellFaults.{has_stray, is_stray_by}
use Rattle.mk_lines.proofs.on_cells.LineCells.{HasNoLineEnd, is_no_line_end_kind}
use Rattle.mk_lines.proofs.on_cells.CellsReplaced.{IsPlainText, ends_ordinary, is_ordinary_kind}
use Rattle.mk_lines.specs.Cut.{continuation}
use Rattle.mk_lines.specs.Units.{units, is_closed, unit_step, unit_begins}
use Rattle.mk_lines.specs.Units.UnitState.{Between}
use Rattle.mk_lines.proofs.on_units.UnitLemmas.{units-map, is_closed-map, concat-units}
use Rattle.mk_lines.specs.Words.{is_gap}
use Rattle.mk_lines.proofs.on_lists.BoolLemmas.{or-left_false, or-right_false}
use Rattle.mk_class.specs.ListTests.{last_passes}
use Rattle.mk_class.specs.Symbols.{symbol, is_hash, is_hash_symbol}
use Rattle.mk_class.specs.CutTexts.{is_no_hash}
use Rattle.mk_class.proofs.on_assignments.AssignmentsWhole.{AreValue}
use Rattle.mk_class.specs.Arguments.{is_value, is_clean, is_barred_byte, is_line_end_kind, is_backslash_byte}

-- what a value, not empty, is among cells
pub record IsValueText (v : List ℕ) : Type 0 where
  pub plain : IsPlainText v
  pub closed : is_closed joined_byte (map Byte v) ≡ true
  pub no_hash : Each (is_no_hash joined_byte) (units joined_byte (map Byte v))
  pub begins : FirstFails (is_gap joined_byte) (units joined_byte (map Byte v))
  pub ends : LastFails (is_gap joined_byte) (units joined_byte (map Byte v))
  pub not_empty : units joined_byte (map Byte v) ≡ [] → ⊥
  pub no_stray : has_stray (map Byte v) ≡ false

is_gap-bytes : (u : List ℕ) → is_gap joined_byte (map Byte u) ≡ is_gap (λ b. b) u
is_gap-bytes [] = refl
is_gap-bytes (x ∷ []) = refl
is_gap-bytes (x ∷ y ∷ u) = refl

symbol-bytes : (u : List ℕ) → symbol joined_byte (map Byte u) ≡ symbol (λ b. b) u
symbol-bytes [] = refl
symbol-bytes (x ∷ []) = refl
symbol-bytes (x ∷ y ∷ u) = refl

no_hash-bytes : (us : List (List ℕ)) → list_any (is_hash (λ b. b)) us ≡ false → Each (is_no_hash joined_byte) (map (map Byte) us)
no_hash-bytes [] h = tt
no_hash-bytes (u ∷ us) h = (
  ap (λ s. not (is_hash_symbol s)) (symbol-bytes u) ∙ ap not (or-left_false (is_hash (λ b. b) u) (list_any (is_hash (λ b. b)) us) h),
  no_hash-bytes us (or-right_false (is_hash (λ b. b) u) (list_any (is_hash (λ b. b)) us) h),
)

last-right : (p : ℕ → Bool) (a b : List ℕ) → last_passes p (a ++ b) ≡ false → last_passes p b ≡ false
last-right p [] b h = h
last-right p (c ∷ []) [] h = refl
last-right p (c ∷ []) (d ∷ b) h = h
last-right p (c ∷ d ∷ a) b h = last-right p (d ∷ a) b h

-- units whose text does not end in a blank do not end in a gap
last_unit-no_gap : (us : List (List ℕ)) → last_passes is_blank_byte (concat us) ≡ false → LastFails (is_gap (λ b. b)) us
last_unit-no_gap [] h = tt
last_unit-no_gap ([] ∷ []) h = refl
last_unit-no_gap ((x ∷ []) ∷ []) h = h
last_unit-no_gap ((x ∷ y ∷ u) ∷ []) h = refl
last_unit-no_gap (u ∷ w ∷ us) h = last_unit-no_gap (w ∷ us) (last-right is_blank_byte u (concat (w ∷ us)) h)

last-bytes : (us : List (List ℕ)) → LastFails (is_gap (λ b. b)) us → LastFails (is_gap joined_byte) (map (map Byte) us)
last-bytes [] h = tt
last-bytes (u ∷ []) h = is_gap-bytes u ∙ h
last-bytes (u ∷ w ∷ us) h = last-bytes (w ∷ us) h

-- the first unit of a text that does not begin with a blank is no gap
first_unit-no_gap : (b : ℕ) (r : List ℕ) → is_blank_byte b ≡ false → FirstFails (is_gap (λ b. b)) (units (λ b. b) (b ∷ r))
first_unit-no_gap b r h = go (continuation (unit_step (λ b. b)) (unit_begins (λ b. b)) (unit_step (λ b. b) Between b) r)
  where
    go : (u : List ℕ) → is_gap (λ b. b) (b ∷ u) ≡ false
    go [] = h
    go (x ∷ u) = refl

first-bytes : (us : List (List ℕ)) → FirstFails (is_gap (λ b. b)) us → FirstFails (is_gap joined_byte) (map (map Byte) us)
first-bytes [] h = tt
first-bytes (u ∷ us) h = is_gap-bytes u ∙ h

-- ---- bytes

no_end-kind : (k : ByteKind) → is_line_end_kind k ≡ false → is_no_line_end_kind k ≡ true
no_end-kind LineFeed h = cc
no_end-kind CarriageReturn h = cc
no_end-kind Backslash h = refl
no_end-kind Blank h = refl
no_end-kind Ordinary h = refl

-- a text without LF, CR and NUL has no line end
pub clean-no_line_end : (v : List ℕ) → list_any is_barred_byte v ≡ false → HasNoLineEnd v
clean-no_line_end [] h = tt
clean-no_line_end (b ∷ v) h = (
  no_end-kind (byte_kind b) (or-left_false (is_line_end_kind (byte_kind b)) (b == 0) (or-left_false (is_barred_byte b) (list_any is_barred_byte v) h)),
  clean-no_line_end v (or-right_false (is_barred_byte b) (list_any is_barred_byte v) h),
)

stray-kind : (k : ByteKind) (z : Bool) → is_line_end_kind k ≡ false → z ≡ false → is_stray_by k z ≡ false
stray-kind LineFeed z h e = cc
stray-kind CarriageReturn z h e = cc
stray-kind Backslash z h e = e
stray-kind Blank z h e = e
stray-kind Ordinary z h e = e

-- the cells of such a text have no stray byte
pub clean-no_stray : (v : List ℕ) → list_any is_barred_byte v ≡ false → has_stray (map Byte v) ≡ false
clean-no_stray [] h = refl
clean-no_stray (b ∷ v) h =
    let s = or-left_false (is_barred_byte b) (list_any is_barred_byte v) h in
    ap (λ z. z || has_stray (map Byte v)) (stray-kind (byte_kind b) (b == 0) (or-left_false (is_line_end_kind (byte_kind b)) (b == 0) s) (or-right_false (is_line_end_kind (byte_kind b)) (b == 0) s))
    ∙ clean-no_stray v (or-right_false (is_barred_byte b) (list_any is_barred_byte v) h)

ordinary-kind : (k : ByteKind) → is_line_end_kind k ≡ false → is_blank_kind k ≡ false → is_backslash_kind k ≡ false → is_ordinary_kind k ≡ true
ordinary-kind LineFeed h i j = cc
ordinary-kind CarriageReturn h i j = cc
ordinary-kind Backslash h i j = cc
ordinary-kind Blank h i j = cc
ordinary-kind Ordinary h i j = refl

-- a text, not empty, without LF, CR and NUL, whose last byte is no blank and no backslash, ends in an ordinary byte
clean-ends_ordinary : (b : ℕ) (v : List ℕ) → list_any is_barred_byte (b ∷ v) ≡ false → last_passes is_blank_byte (b ∷ v) ≡ false → last_passes is_backslash_byte (b ∷ v) ≡ false → ends_ordinary (b ∷ v) ≡ true
clean-ends_ordinary b [] h i j = ordinary-kind (byte_kind b) (or-left_false (is_line_end_kind (byte_kind b)) (b == 0) (or-left_false (is_barred_byte b) false h)) i j
clean-ends_ordinary b (c ∷ v) h i j = clean-ends_ordinary c v (or-right_false (is_barred_byte b) (list_any is_barred_byte (c ∷ v)) h) i j

-- ---- the value

-- a text that may be a value, and is not empty
pub value-text : (b : ℕ) (r : List ℕ) → is_value (b ∷ r) ≡ true → IsValueText (b ∷ r)
value-text b r h =
    let v = b ∷ r in
    let p0 = and_parts (is_clean v) _ h in
    let p1 = and_parts (not (is_blank_byte b)) _ p0.1 in
    let p2 = and_parts (not (last_passes is_blank_byte v)) _ p1.1 in
    let p3 = and_parts (is_closed (λ b. b) v) _ p2.1 in
    let p4 = and_parts (not (list_any (is_hash (λ b. b)) (units (λ b. b) v))) _ p3.1 in
    let clean : list_any is_barred_byte v ≡ false = not-true (list_any is_barred_byte v) p0.0 in
    let no_blank : last_passes is_blank_byte v ≡ false = not-true (last_passes is_blank_byte v) p2.0 in
    let cells : units joined_byte (map Byte v) ≡ map (map Byte) (units (λ b. b) v) = units-map Byte joined_byte v in
    let last : last_passes is_blank_byte (concat (units (λ b. b) v)) ≡ false = ap (last_passes is_blank_byte) (concat-units (λ b. b) v) ∙ no_blank in
    record {
      plain = record {
        begins = p1.0;
        inner = clean-no_line_end v clean;
        ends = clean-ends_ordinary b r clean no_blank (not-true (last_passes is_backslash_byte v) p4.1);
      };
      closed = is_closed-map Byte joined_byte v ∙ p3.0;
      no_hash = subst (Each (is_no_hash joined_byte)) (sym cells) (no_hash-bytes (units (λ b. b) v) (not-true (list_any (is_hash (λ b. b)) (units (λ b. b) v)) p4.0));
      begins = subst (FirstFails (is_gap joined_byte)) (sym cells) (first-bytes (units (λ b. b) v) (first_unit-no_gap b r (not-true (is_blank_byte b) p1.0)));
      ends = subst (LastFails (is_gap joined_byte)) (sym cells) (last-bytes (units (λ b. b) v) (last_unit-no_gap (units (λ b. b) v) last));
      not_empty = λ e. cc;
      no_stray = clean-no_stray v clean;
    }

-- the units of a value's text may be the value of an assignment, with any blanks after it
pub value-are_value : (v : List ℕ) (after : List (List Cell)) → IsValueText v → Each (is_gap joined_byte) after → AreValue joined_byte (units joined_byte (map Byte v)) after
value-are_value v after t g = record { begins = t.begins; ends = t.ends; blanks_after = g; empty = λ e. absurd (t.not_empty e) }
