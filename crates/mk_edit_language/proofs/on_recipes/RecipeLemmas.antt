-- The line of an accepted new recipe line can stand at its place; and a recipe line with another command.
use Rattle.std.proofs.Common.{◌≡◌, refl, sym, ap, ◌∙◌, subst, ℕ, List, [], ◌∷◌, ◌++◌, Bool, true, false, not, ◌||◌, ◌&&◌, ◌==◌, Option, Some, None, is_some, length, drop, append_assoc, map, arith, reverse, ◌+◌}
use Rattle.std.specs.List.{list_any}
use Rattle.std.proofs.lemmas.Bool.{and_parts, eq-eqb, eqb-true}
use Rattle.std.proofs.lemmas.List.{reverse-append}
use Rattle.std.specs.Prelude.{nat_lt, option_and_then}
use Rattle.mk_lines.specs.Lists.{Each}
use Rattle.mk_lines.proofs.on_lists.ListLemmas.{Each-append}
use Rattle.mk_lines.specs.Bytes.{ByteKind, byte_kind}
use Rattle.mk_lines.specs.Bytes.ByteKind.{LineFeed, CarriageReturn}
use Rattle.mk_lines.specs.PhysicalLines.{line_end, line_end_bytes, without_line_end, file_line_end}
use Rattle.mk_lines.specs.LogicalLines.{has_no_line_end, is_continued, ends_line}
use Rattle.mk_lines.proofs.on_lines.LineEndAdded.{IsEnded}
use Rattle.mk_lines.proofs.on_lines.LineLemmas.{OneLine, Ends, EndsBefore}
use Rattle.mk_lines.proofs.on_lines.LineEndLemmas.{KeepsApart, FirstIsNot, without_line_end-line_end, without_line_end-append, Ends-ends_line}
use Rattle.mk_lines.proofs.on_cells.LineOfCells.{IsClean, one_line-of_cells}
use Rattle.mk_lines.proofs.on_cells.CellLemmas.{raw_text-bytes}
use Rattle.mk_lines.specs.Cells.{Byte, joined_byte, cells, line_cells}
use Rattle.mk_lines.specs.Units.{units}
use Rattle.mk_lines.proofs.on_cells.LineCells.{AreLineCells-cells, bytes-are_line_cells, HasNoLineEnd, is_no_line_end_kind}
use Rattle.mk_lines.specs.Pieces.{Replacement, replaced}
use Rattle.mk_lines.specs.declared.ends.End.{End}
use Rattle.mk_lines.specs.declared.ends.End.TheVariants as ends
use Rattle.mk_class.specs.ListTests.{last_passes}
use Rattle.mk_class.specs.RecipePrefix.{is_prefix_led}
use Rattle.mk_class.specs.Arguments.{is_barred_byte, is_backslash_byte, is_clean, is_command, is_target}
use Rattle.mk_class.specs.Classes.{Class, is_recipe}
use Rattle.mk_class.specs.Contexts.{Context, context_after}
use Rattle.mk_class.specs.ClassTable.{is_unreadable, class_of, class_at}
use Rattle.mk_class.specs.ClassedLines.{classed_lines, context_after_lines}
use Rattle.mk_class.specs.declared.context.RuleFlag.TheVariants as flag
use Rattle.mk_tree.specs.Documents.{text_of, context_of}
use Rattle.mk_tree.specs.Items.{Recipe}
use Rattle.mk_tree.specs.RecipeLines.{recipe_run, after_recipe}
use Rattle.mk_tree.proofs.on_documents.LinesInText.{line-in_text, bytes_of, run-in_text, context_of-append}
use Rattle.mk_tree.proofs.on_changes.NewLineLemmas.{file_line_end-some, new_line-clean, clean-no_line_end}
use Rattle.mk_tree.proofs.on_changes.SpansInLines.{text-span_replaced}
use Rattle.mk_tree.proofs.on_changes.RecipeRunLemmas.{rule-context, recipe_run-after, recipe_run-stays, recipe-agrees}
use Rattle.mk_tree.specs.LineTexts.{StandingLine}
use Rattle.mk_edit_language.specs.Edits.{ByNumber, RecipePlace, Last, At, AddRecipe}
use Rattle.mk_edit_language.specs.Stretches.{Stretch, before_line, after_rule, recipe_gap, recipe_place}
use Rattle.mk_edit_language.specs.EditSpans.{recipe_span}
use Rattle.mk_edit_language.specs.RuleCauses.{absent}
use Rattle.mk_edit_language.proofs.on_edits.Accepted.{IsAccepted, where_holds-none, two-passed}
use Rattle.mk_edit_language.proofs.on_edits.EditPlaces.{place-is}
use Rattle.mk_edit_language.proofs.on_lines.SpotLemmas.{IsSpot, FoundRule, rule-found, recipe_spot-is, recipe-class}
use Rattle.mk_edit_language.proofs.on_new_lines.NewLineStands.{NewStands, accepted-stands}
use Rattle.mk_edit_language.proofs.on_lines.LineReplaced.{IsLineReplaced, replaced-line, replaced-same}
use Rattle.mk_edit_language.proofs.on_recipes.RecipeClassLemmas.{StandsInRule, recipe-stands}
use Rattle.mk_edit_language.proofs.on_lines.PrefixLemmas.{CanBegin, context-can_begin}
use Rattle.mk_edit_language.specs.declared.refusal.Field.TheVariants as field
use Rattle.mk_edit_language.specs.declared.refusal.Refusal.TheVariants.{NoSuch, Absent}

-- ---- a recipe line's text

not-both : (a b : Bool) → not a ≡ true → b ≡ false → not (b || a) ≡ true
not-both true b h k = cc
not-both false b h k = ap (λ z. not (z || false)) k

-- the prefix and a command
recipe-clean : (p : ℕ) (c : List ℕ) → CanBegin p → is_command c ≡ true → is_clean (p ∷ c) ≡ true
recipe-clean p c h k = not-both (list_any is_barred_byte c) (is_barred_byte p) (and_parts (is_clean c) _ k).0 h.not_barred

recipe-no_backslash : (p : ℕ) (c : List ℕ) → CanBegin p → is_command c ≡ true → last_passes is_backslash_byte (p ∷ c) ≡ false
recipe-no_backslash p [] h k = h.no_backslash
recipe-no_backslash p (b ∷ c) h k = go (last_passes is_backslash_byte (b ∷ c)) (and_parts (is_clean (b ∷ c)) _ k).1
  where
    go : (t : Bool) → not t ≡ true → t ≡ false
    go true e = cc
    go false e = refl

-- a line that begins with the prefix in a rule is a recipe line
recipe-class_in_rule : (c : Context) (l : List ℕ) → c.defines ≡ 0 → c.flag ≡ flag.Rule → is_prefix_led c.prefix l ≡ true → class_of c l ≡ Class.Recipe
recipe-class_in_rule c l d f p =
    let k = nat_lt 0 c.conditionals in
    let us = units joined_byte (line_cells l) in
    ap (λ z. class_at joined_byte z c.defines c.flag k (is_unreadable (line_cells l)) us) p
    ∙ (ap (λ z. class_at joined_byte true z c.flag k (is_unreadable (line_cells l)) us) d ∙ ap (λ z. class_at joined_byte true 0 z k (is_unreadable (line_cells l)) us) f)

-- ---- a new recipe line

-- a stretch between two lines of a rule, outside defines
record IsInRule (t : List ℕ) (s : Stretch) : Type 0 where
  whole : classed_lines t ≡ s.above ++ s.below
  in_rule : (context_of s.above).flag ≡ flag.Rule
  no_define : (context_of s.above).defines ≡ 0

-- the place after a rule is one
after_rule-in_rule : (t : List ℕ) (nth : Option ℕ) (g : List ℕ) → (F : FoundRule (classed_lines t) nth g) → IsInRule t (after_rule F.spot)
after_rule-in_rule t nth g F =
    let s = F.spot in
    let R = recipe_run s.below in
    let rule = rule-context (context_of s.above) s.line F.header R (line-in_text t s.above s.line s.below F.whole).class F.class_is (recipe_run-stays s.below) in
    let same : context_of (s.above ++ s.line ∷ R) ≡ context_after_lines (context_of s.above) (s.line ∷ R) = context_of-append s.above (s.line ∷ R) in
    record {
      whole = F.whole ∙ (ap (λ z. s.above ++ s.line ∷ z) (sym (recipe_run-after s.below)) ∙ sym (append_assoc s.above (s.line ∷ R) (after_recipe s.below)));
      in_rule = ap (λ z. z.flag) same ∙ rule.flag;
      no_define = ap (λ z. z.defines) same ∙ rule.no_define;
    }

-- the place before a recipe line is one
before_recipe-in_rule : (t : List ℕ) (s : StandingLine) → IsSpot (λ l. is_recipe l.class) (classed_lines t) s → IsInRule t (before_line s)
before_recipe-in_rule t s S =
    let S' = recipe-stands (context_of s.above) s.line.bytes (ap is_recipe (line-in_text t s.above s.line s.below S.whole).class ∙ S.passes) in
    record { whole = S.whole; in_rule = S'.in_rule; no_define = S'.no_define }

-- so each place for a new recipe line is one
place-in_rule : (t : List ℕ) (nth : Option ℕ) (g : List ℕ) (p : RecipePlace) (s : Stretch) → FoundRule (classed_lines t) nth g → recipe_place (classed_lines t) nth g p ≡ Some s → IsInRule t s
place-in_rule t nth g p s F h =
    let q = F.spot in
    place-is (IsInRule t) q p (λ k r j. before_recipe-in_rule t r (recipe_spot-is (classed_lines t) q (ByNumber k) r F.whole j)) (after_rule-in_rule t nth g F) s
    (sym (ap (option_and_then (recipe_gap p)) F.found_is) ∙ h)

-- an accepted new recipe line has a place
place-there : (t : List ℕ) (nth : Option ℕ) (g : List ℕ) (p : RecipePlace) (c : List ℕ) → FoundRule (classed_lines t) nth g → absent (classed_lines t) (AddRecipe nth g p c) ≡ None
    → (s : Stretch) × (recipe_place (classed_lines t) nth g p ≡ Some s)
place-there t nth g Last c F h = (after_rule F.spot, ap (option_and_then (recipe_gap Last)) F.found_is)
place-there t nth g (At k) c F h = some (recipe_place (classed_lines t) nth g (At k)) (where_holds-none _ Absent h)
  where
    some : (o : Option Stretch) → not (is_some o) ≡ false → (s : Stretch) × (o ≡ Some s)
    some None n = absurd (cc)
    some (Some s) n = (s, refl)

-- the new line of an accepted new recipe line can stand at its place
pub new_recipe-stands : (nth : Option ℕ) (g : List ℕ) (p : RecipePlace) (c t : List ℕ) (rs : List Replacement) → IsAccepted t (AddRecipe nth g p c) rs → NewStands t (AddRecipe nth g p c) (Recipe c)
new_recipe-stands nth g p c t rs A =
    let e = AddRecipe nth g p c in
    let k : is_command c ≡ true = (two-passed field.Target field.Line (is_target g) (is_command c) A.arguments).1 in
    let F = rule-found (classed_lines t) nth g (where_holds-none _ NoSuch A.is_there) (where_holds-none _ _ A.is_one) in
    let P = place-there t nth g p c F A.not_absent in
    let s = P.0 in
    let R = place-in_rule t nth g p s F P.1 in
    let C = context_of s.above in
    let E = file_line_end t in
    let can : CanBegin C.prefix = context-can_begin s.above (run-in_text t s.above [] s.below R.whole).above_classed in
    let x = C.prefix ∷ c in
    let ended : IsEnded x E = new_line-clean x E (recipe-clean C.prefix c can k) (recipe-no_backslash C.prefix c can k) (file_line_end-some t) in
    record {
      stretch = s;
      found_is = P.1;
      text = x;
      text_is = refl;
      class = Class.Recipe;
      plain = refl;
      item = ap (λ q. Recipe (drop 1 q) ∷ []) ended.same_text;
      stands = accepted-stands t e rs s x Class.Recipe A P.1 R.whole ended (recipe-class_in_rule C (x ++ line_end_bytes E) R.no_define R.in_rule (eq-eqb C.prefix C.prefix refl)) (recipe-agrees C) refl;
    }

-- ---- a recipe line changed

-- what is known of a recipe line: it begins with the prefix, and its text goes on after that
record IsRecipeLine (c : Context) (l : List ℕ) : Type 0 where
  stands : StandsInRule (is_prefix_led c.prefix l) c.defines c.flag
  command : List ℕ
  text_is : without_line_end l ≡ c.prefix ∷ command

recipe-text : (c : Context) (l : List ℕ) → is_recipe (class_of c l) ≡ true → CanBegin c.prefix → IsRecipeLine c l
recipe-text c l h can = go l refl (recipe-stands c l h)
  where
    no_end : (x : List ℕ) (e : End) (b : ℕ) (r : List ℕ) → x ++ line_end_bytes e ≡ b ∷ r → is_barred_byte b ≡ false → (y : List ℕ) × (x ≡ b ∷ y)
    no_end [] ends.None b r e k = cc
    no_end [] ends.Lf b r e k = absurd (let z : 10 ≡ b = cc in let w : is_barred_byte 10 ≡ false = subst (λ q. is_barred_byte q ≡ false) (sym z) k in cc)
    no_end [] ends.CrLf b r e k = absurd (let z : 13 ≡ b = cc in let w : is_barred_byte 13 ≡ false = subst (λ q. is_barred_byte q ≡ false) (sym z) k in cc)
    no_end (x ∷ xs) f b r e k = (xs, let z : x ≡ b = cc in ap (λ q. q ∷ xs) z)

    go : (m : List ℕ) → l ≡ m → StandsInRule (is_prefix_led c.prefix l) c.defines c.flag → IsRecipeLine c l
    go [] e s = absurd (let z : is_prefix_led c.prefix [] ≡ true = ap (is_prefix_led c.prefix) (sym e) ∙ s.is_led in cc)
    go (b ∷ r) e s =
        let z : (b == c.prefix) ≡ true = ap (is_prefix_led c.prefix) (sym e) ∙ s.is_led in
        let same : b ≡ c.prefix = eqb-true b c.prefix z in
        let k : is_barred_byte b ≡ false = subst (λ q. is_barred_byte q ≡ false) (sym same) can.not_barred in
        let w = no_end (without_line_end l) (line_end l) b r (without_line_end-line_end l ∙ e) k in
        record { stands = s; command = w.0; text_is = w.1 ∙ ap (λ q. q ∷ w.0) same }

ends-where_followed : (l m : List ℕ) (b : ℕ) (r : List ℕ) (ls : List (List ℕ)) → l ≡ b ∷ r → EndsBefore l ls → (has_no_line_end (line_end l) ≡ false → Ends m) → EndsBefore m ls
ends-where_followed l m b r [] s h k = tt
ends-where_followed l m b r (x ∷ ls) s h k = k (ap (λ z. has_no_line_end (line_end z)) s ∙ both (has_no_line_end (line_end (b ∷ r))) (is_continued (b ∷ r)) (ap ends_line (sym s) ∙ Ends-ends_line l h))
  where
    both : (a b : Bool) → (not a && not b) ≡ true → a ≡ false
    both true b e = cc
    both false b e = refl

each-reverse : (p : ℕ → Bool) (xs : List ℕ) → Each p xs → Each p (reverse xs)
each-reverse p [] h = tt
each-reverse p (b ∷ t) h = subst (Each p) (sym (reverse-append (b ∷ []) t)) (Each-append p (reverse t) (b ∷ []) (each-reverse p t h.1) (h.0, tt))

first-not : (k : ByteKind) (r : List ℕ) → is_no_line_end_kind k ≡ false → HasNoLineEnd r → FirstIsNot k r
first-not k [] n h = tt
first-not k (b ∷ r) n h = λ e. let x : is_no_line_end_kind k ≡ true = ap is_no_line_end_kind (sym e) ∙ h.0 in let y : true ≡ false = sym x ∙ n in cc

-- a line end stays apart from a text without LF and CR
keeps-apart : (e : End) (x : List ℕ) → HasNoLineEnd x → KeepsApart e (reverse x)
keeps-apart ends.None x h = first-not LineFeed (reverse x) refl (each-reverse (λ b. is_no_line_end_kind (byte_kind b)) x h)
keeps-apart ends.Lf x h = first-not CarriageReturn (reverse x) refl (each-reverse (λ b. is_no_line_end_kind (byte_kind b)) x h)
keeps-apart ends.CrLf x h = tt

-- the line of a recipe with another command
pub set_recipe-line : (t : List ℕ) (s : StandingLine) (c : List ℕ) → classed_lines t ≡ s.above ++ s.line ∷ s.below → is_recipe s.line.class ≡ true → is_command c ≡ true
    → IsLineReplaced (replaced 0 t (recipe_span c s)) s.above s.below (Recipe c)
set_recipe-line t s c w r k =
    let C = context_of s.above in
    let l = s.line.bytes in
    let L = line-in_text t s.above s.line s.below w in
    let can : CanBegin C.prefix = context-can_begin s.above L.above_classed in
    let R = recipe-text C l (ap is_recipe L.class ∙ r) can in
    let p = C.prefix in
    let e = line_end l in
    let end = line_end_bytes e in
    let x = p ∷ c in
    let m = x ++ end in
    let whole : l ≡ (p ∷ []) ++ (R.command ++ end) = sym (without_line_end-line_end l) ∙ ap (λ z. z ++ end) R.text_is in
    let at = length (text_of s.above) in
    let n : length (without_line_end l) ≡ 1 + length R.command = ap length R.text_is ∙ omega arith in
    let stop : at + length (without_line_end l) ≡ (at + 1) + length R.command = omega (arith, n) in
    let text = text-span_replaced t s.above s.line s.below (p ∷ []) R.command end c (at + 1) (at + length (without_line_end l)) w whole refl stop in
    let clean = recipe-clean p c can k in
    let line = bytes-are_line_cells x (clean-no_line_end x clean) in
    let same : cells x ≡ map Byte x = ap cells (sym (raw_text-bytes x)) ∙ AreLineCells-cells (map Byte x) line in
    let one : OneLine m = one_line-of_cells x e p (c ++ end) (subst IsClean (sym same) line.clean) refl in
    let ends : EndsBefore m (bytes_of s.below) = ends-where_followed l m p (R.command ++ end) (bytes_of s.below) whole L.ends (λ z. (new_line-clean x e clean (recipe-no_backslash p c can k) z).ends) in
    let class : class_of C m ≡ Class.Recipe = recipe-class_in_rule C m R.stands.no_define R.stands.in_rule (eq-eqb p p refl) in
    let context : context_after C Class.Recipe ≡ context_after C s.line.class = ap (context_after C) (sym (recipe-class s.line.class r)) in
    let read : without_line_end m ≡ x = without_line_end-append x e (keeps-apart e x (clean-no_line_end x clean)) in
    replaced-same _ _ s.above s.below _ _ (sym text) refl
    (replaced-line t s.above s.line s.below m Class.Recipe (Recipe c) w one ends class context refl (ap (λ z. Recipe (drop 1 z) ∷ []) read))
