-- What an edit of several lines that is checked by reading does to the lines of a makefile, in bytes.
use Rattle.std.proofs.Common.{◌≡◌, refl, sym, ap, ◌∙◌, subst, arith, ℕ, zero, suc, ◌+◌, ◌-◌, List, [], ◌∷◌, ◌++◌, map, length, take, drop, cond, Bool, true, false, not, ◌&&◌, ◌||◌, Option, Some, None, inl, inr, is_some, append_assoc}
use Rattle.std.specs.Prelude.{Ok, ◌⊎◌, if◌then◌else◌, codes}
use Rattle.std.specs.List.{AllZip, Any, list_any}
use Rattle.std.proofs.lemmas.Bool.{and_parts, not-false}
use Rattle.std.proofs.lemmas.List.{append-nil}
use Rattle.std.proofs.lemmas.Slice.Eq.{bytes_eq-Decides}
use Rattle.mk_lines.specs.LogicalLines.{logical_lines}
use Rattle.mk_lines.specs.PhysicalLines.{without_line_end, line_end, line_end_bytes}
use Rattle.mk_lines.specs.Cells.{Cell, Byte, joined_byte, raw_text}
use Rattle.mk_lines.specs.Pieces.{Replacement, Piece, Keep, Replace, replaced, replacements, old_bytes, new_bytes}
use Rattle.mk_lines.proofs.on_lines.LineEndLemmas.{without_line_end-line_end}
use Rattle.mk_lines.proofs.on_lists.BoolLemmas.{or-left_false, or-right_false}
use Rattle.mk_lines.proofs.on_lists.PieceLemmas.{replaced-pieces}
use Rattle.mk_lines.proofs.on_cells.CellLemmas.{raw_text-bytes}
use Rattle.mk_class.specs.ListTests.{is_empty}
use Rattle.mk_class.specs.Arguments.{is_clean, is_target}
use Rattle.mk_class.specs.Texts.{unit_text}
use Rattle.mk_class.specs.Assignments.{Assignment}
use Rattle.mk_class.specs.Classes.{Class, is_recipe}
use Rattle.mk_class.specs.Classes.Class.{Assign}
use Rattle.mk_class.specs.Contexts.{Context, start, context_after}
use Rattle.mk_class.specs.ClassTable.{class_of}
use Rattle.mk_class.specs.ClassedLines.{ClassedLine, classed_lines}
use Rattle.mk_tree.specs.LineTexts.{StandingLine, bytes_of, context_of}
use Rattle.mk_tree.proofs.on_documents.LinesInText.{context_of-last, bytes_of-classed, line-in_text}
use Rattle.mk_edit_language.specs.Edits as edits
use Rattle.mk_edit_language.specs.Edits.{LineChange, Substitute, EachEdit, ChangeEach, SubstValues, SubstRecipe, SubstRecipes, EachLine}
use Rattle.mk_edit_language.specs.EditViews.{edit_of}
use Rattle.mk_edit_language.specs.declared.edit.EachEdit as EachEdit
use Rattle.mk_edit_language.specs.declared.edit.EachEdit.TheVariants as each
use Rattle.mk_edit_language.specs.declared.edit.Edit.TheVariants as edit
use Rattle.mk_edit_language.specs.declared.edit.LineChange.TheVariants as line
use Rattle.mk_edit_language.specs.declared.refusal.Field.TheVariants as field
use Rattle.mk_edit_language.specs.Addresses.{assigns, is_rule_for}
use Rattle.mk_edit_language.specs.Spots.{spots, nth_of}
use Rattle.mk_edit_language.specs.AddressCauses.{is_missing}
use Rattle.mk_edit_language.specs.EachLine.{EachChange, InAssignment, InRecipe, MarkedLine, marked, each_change, recipe_text, recipe_text_pieces, recipe_pieces, change_pieces, is_change_misread, marked_pieces, is_each_changed, each_bytes}
use Rattle.mk_edit_language.specs.LineChanges.{begins_with, substituted}
use Rattle.mk_edit_language.specs.LineCauses.{is_any_misread}
use Rattle.mk_edit_language.specs.Refusals.{spans, text_after}
use Rattle.mk_edit_language.specs.WordPieces.{is_replaced}
use Rattle.mk_edit_language.specs.declared.refusal.Refusal.TheVariants.{Misread, NoSuch}
use Rattle.mk_edit_language.proofs.on_edits.Accepted.{accepted, where_holds-none, first-passed}
use Rattle.mk_edit_language.proofs.on_edits.KeptByRenameTargetLemmas.{unreplaced-spans}
use Rattle.mk_edit_language.proofs.on_each_line.EachLineLemmas.{each_line-keeps}
use Rattle.mk_edit_language.proofs.on_each_line.EachLineSpans.{Sort, Plain, Other, sort-of, unmarked}
use Rattle.mk_edit_language.proofs.on_each_line.MarkLemmas.{marked-by_test}
use Rattle.mk_edit_language.proofs.on_lines.SpotLemmas.{IsSpot, picked-is}
use Rattle.mk_edit_parts.specs.RecipeChanges.{recipe_ranges}
use Rattle.mk_edit_parts.specs.RenamedTexts.{rewritten}
use Rattle.mk_edit_parts.proofs.on_each_line.MeantMarks.{mark}
use Rattle.mk_edit_parts.proofs.on_recipes.RecipesChanged.{recipe-rewritten}
use Rattle.mk_session.specs.Statement.{Has, Names, IsRecipe, Each, Recipes, Replaces, Lines, Does}
use Rattle.mk_session.proofs.on_statement.LineWords.{assign-names, assign-has_sign, rule-names}
use Rattle.mk_session.proofs.on_statement.LinesStated.{put_in, IsLineChanged, changed-line}
use Rattle.mk_session.proofs.on_statement.RecipePlaces.{any-there, any-in, recipe-line}
use Rattle.mk_session.proofs.on_statement.ReplacedTexts.{AreReplaced, pieces-replace}

-- each of some marked lines fits what an edit means
abbrev AllFit : (MarkedLine → Type 0) → List MarkedLine → Type 0
AllFit F [] = Unit {0}
AllFit F (m ∷ ms) = F m × AllFit F ms

-- what is said of a line that is changed: it stands below these lines, fits what the edit means, and is not misread
abbrev Says : EachChange → (Fits : MarkedLine → Type 0) → (P : List ℕ → List ℕ → Type 0) → (text : List ℕ) → Type 0
Says c F P t = (A : List ClassedLine) (m : MarkedLine) (B : List ClassedLine) → classed_lines t ≡ A ++ m.line ∷ B → F m
    → is_each_changed c m ≡ true → is_change_misread c (context_of A) m.line ≡ false → P m.line.bytes (each_bytes c m)

-- ---- the lines of a text

module _ (c : EachChange) (F : MarkedLine → Type 0) (P : List ℕ → List ℕ → Type 0) (t : List ℕ) (say : Says c F P t) where
  line-says : (A : List ClassedLine) (m : MarkedLine) (B : List ClassedLine) → classed_lines t ≡ A ++ m.line ∷ B → F m → (is_each_changed c m && is_change_misread c (context_of A) m.line) ≡ false
      → (each_bytes c m ≡ m.line.bytes) ⊎ P m.line.bytes (each_bytes c m)
  line-says A m B h f q = go (is_each_changed c m) refl q
    where
      go : (b : Bool) → is_each_changed c m ≡ b → (b && is_change_misread c (context_of A) m.line) ≡ false → (each_bytes c m ≡ m.line.bytes) ⊎ P m.line.bytes (each_bytes c m)
      go true e r = inr (say A m B h f e r)
      go false e r = inl (ap (replaced 0 m.line.bytes) (unreplaced-spans 0 (marked_pieces c m) e))

  lines-say : (A : List ClassedLine) (ms : List MarkedLine) → classed_lines t ≡ A ++ unmarked ms → AllFit F ms → is_any_misread c (context_of A) ms ≡ false
      → AllZip (λ l m. (m ≡ l) ⊎ P l m) (bytes_of (unmarked ms)) (map (each_bytes c) ms)
  lines-say A [] h f q = tt
  lines-say A (m ∷ ms) h f q =
      let here = is_each_changed c m && is_change_misread c (context_of A) m.line in
      let below = is_any_misread c (context_after (context_of A) m.line.class) ms in
      let whole = h ∙ sym (append_assoc A (m.line ∷ []) (unmarked ms)) in
      let read = ap (λ (z : Context). is_any_misread c z ms) (context_of-last A m.line) ∙ or-right_false here below q in
      (line-says A m (unmarked ms) h f.0 (or-left_false here below q), lines-say (A ++ m.line ∷ []) ms whole f.1 read)

-- an edit of several lines
edit-says : (e : EachEdit) (F : MarkedLine → Type 0) (P : List ℕ → List ℕ → Type 0) (t : List ℕ) (rs : List Replacement) → Says (each_change e) F P t → AllFit F (marked e (classed_lines t))
    → spans t (EachLine e) ≡ Ok rs → Each P (logical_lines t) (logical_lines (text_after t (EachLine e)))
edit-says e F P t rs say f h =
    let ms = marked e (classed_lines t) in
    let K = each_line-keeps e t rs h in
    let R : List ℕ → List ℕ → Type 0 = λ l m. (m ≡ l) ⊎ P l m in
    let before : bytes_of (unmarked ms) ≡ logical_lines t = ap bytes_of K.lines_before ∙ bytes_of-classed start (logical_lines t) in
    let are = lines-say (each_change e) F P t say [] ms (sym K.lines_before) f (where_holds-none _ Misread (accepted t (EachLine e) rs h).not_misread) in
    subst (λ z. AllZip R z (logical_lines (text_after t (EachLine e)))) before (subst (λ z. AllZip R (bytes_of (unmarked ms)) z) (sym K.lines) are)

-- ---- assignments

-- an assignment's line that is changed
assignment-changed : (d : LineChange) (ctx : Context) (n x : List ℕ) (a : Assignment Cell) → class_of ctx x ≡ Assign a None → assigns n (Assign a None) ≡ true
    → is_each_changed (InAssignment d) (mark (record { bytes = x; class = Assign a None }) true) ≡ true → is_change_misread (InAssignment d) ctx (record { bytes = x; class = Assign a None }) ≡ false
    → IsLineChanged ctx n d (each_bytes (InAssignment d) (mark (record { bytes = x; class = Assign a None }) true))
assignment-changed d ctx n x a e h changed read = changed-line ctx n x (Assign a None) d 0 e h read changed

-- a line that is changed is an assignment that is meant
record IsAssignment (m : MarkedLine) : Type 0 where
  assignment : Assignment Cell
  meant : m.is_meant ≡ true
  class_is : m.line.class ≡ Assign assignment None

changed-assignment : (d : LineChange) (m : MarkedLine) → is_each_changed (InAssignment d) m ≡ true → IsAssignment m
changed-assignment d m e = go m.is_meant refl (sort-of m.line.class)
  where
    go : (b : Bool) → m.is_meant ≡ b → Sort m.line.class → IsAssignment m
    go true i (Plain a s) = record { assignment = a; meant = i; class_is = s }
    go true i (Other p r) =
        let no : list_any is_replaced (marked_pieces (InAssignment d) m) ≡ false = ap (λ b. list_any is_replaced (cond b (change_pieces (InAssignment d) m.line.class m.line.bytes) [])) i ∙ ap (list_any is_replaced) (p d) in
        absurd (let w : true ≡ false = sym e ∙ no in cc)
    go false i s =
        let no : list_any is_replaced (marked_pieces (InAssignment d) m) ≡ false = ap (λ b. list_any is_replaced (cond b (change_pieces (InAssignment d) m.line.class m.line.bytes) [])) i in
        absurd (let w : true ≡ false = sym e ∙ no in cc)

-- the line after the change, of an assignment of a name
line-changed : (d : LineChange) (ctx : Context) (n : List ℕ) (m : MarkedLine) → class_of ctx m.line.bytes ≡ m.line.class → assigns n m.line.class ≡ true
    → is_each_changed (InAssignment d) m ≡ true → is_change_misread (InAssignment d) ctx m.line ≡ false → IsLineChanged ctx n d (each_bytes (InAssignment d) m)
line-changed d ctx n m k h e q = go (changed-assignment d m e)
  where
    x : List ℕ
    x = m.line.bytes

    Goal : Class Cell → Bool → Type 0
    Goal z b = class_of ctx x ≡ z → assigns n z ≡ true → is_each_changed (InAssignment d) (mark (record { bytes = x; class = z }) b) ≡ true
        → is_change_misread (InAssignment d) ctx (record { bytes = x; class = z }) ≡ false → IsLineChanged ctx n d (each_bytes (InAssignment d) (mark (record { bytes = x; class = z }) b))

    go : IsAssignment m → IsLineChanged ctx n d (each_bytes (InAssignment d) m)
    go I =
        subst (λ b. Goal m.line.class b) (sym I.meant)
        (subst (λ (z : Class Cell). Goal z true) (sym I.class_is) (assignment-changed d ctx n x I.assignment)) k h e q

-- lines that are marked where they assign a name
marked-assign : (n : List ℕ) (ls : List ClassedLine) → AllFit (λ (m : MarkedLine). m.is_meant ≡ true → assigns n m.line.class ≡ true) (map (λ l. mark l (assigns n l.class)) ls)
marked-assign n [] = tt
marked-assign n (l ∷ ls) = (λ h. h, marked-assign n ls)

change-stated : (n : List ℕ) (d : LineChange) (t : List ℕ) (rs : List Replacement) → spans t (EachLine (ChangeEach n d)) ≡ Ok rs
    → Each (λ l m. Names n 61 l × Names n 61 m × Has (put_in d) m) (logical_lines t) (logical_lines (text_after t (EachLine (ChangeEach n d))))
change-stated n d t rs h = edit-says (ChangeEach n d) F P t rs say fits h
  where
    F : MarkedLine → Type 0
    F m = m.is_meant ≡ true → assigns n m.line.class ≡ true

    P : List ℕ → List ℕ → Type 0
    P l m = Names n 61 l × Names n 61 m × Has (put_in d) m

    fits : AllFit F (marked (ChangeEach n d) (classed_lines t))
    fits = subst (λ (z : List MarkedLine). AllFit F z) (sym (marked-by_test (λ l. assigns n l.class) (classed_lines t))) (marked-assign n (classed_lines t))

    say : Says (InAssignment d) F P t
    say A m B w f e q =
        let ctx = context_of A in
        let class = (line-in_text t A m.line B w).class in
        let named = f (changed-assignment d m e).meant in
        let I = line-changed d ctx n m class named e q in
        let new = each_bytes (InAssignment d) m in
        (assign-names ctx n m.line.bytes m.line.class class named, assign-names ctx n new (class_of ctx new) refl I.assigns_it, I.has)

any-line : (ms : List MarkedLine) → AllFit (λ (m : MarkedLine). Unit {0}) ms
any-line [] = tt
any-line (m ∷ ms) = (tt, any-line ms)

values-substituted : (f u t : List ℕ) (rs : List Replacement) → spans t (EachLine (SubstValues f u)) ≡ Ok rs
    → Each (λ l m. Has (61 ∷ []) l × Has (61 ∷ []) m × Has u m) (logical_lines t) (logical_lines (text_after t (EachLine (SubstValues f u))))
values-substituted f u t rs h = edit-says (SubstValues f u) (λ m. Unit {0}) P t rs say (any-line (marked (SubstValues f u) (classed_lines t))) h
  where
    d : LineChange
    d = Substitute f u

    P : List ℕ → List ℕ → Type 0
    P l m = Has (61 ∷ []) l × Has (61 ∷ []) m × Has u m

    say : Says (InAssignment d) (λ m. Unit {0}) P t
    say A m B w f e q =
        let ctx = context_of A in
        let class = (line-in_text t A m.line B w).class in
        let I = changed-assignment d m e in
        let n = unit_text joined_byte I.assignment.name in
        let named : assigns n m.line.class ≡ true = ap (assigns n) I.class_is ∙ (bytes_eq-Decides n n).1 refl in
        let L = line-changed d ctx n m class named e q in
        let new = each_bytes (InAssignment d) m in
        (assign-has_sign ctx n m.line.bytes m.line.class class named, assign-has_sign ctx n new (class_of ctx new) refl L.assigns_it, L.has)

-- ---- recipe lines

bytes-taken : (n : ℕ) (xs : List ℕ) → raw_text (take n (map Byte xs)) ≡ take n xs
bytes-taken zero xs = refl
bytes-taken (suc n) [] = refl
bytes-taken (suc n) (x ∷ xs) = ap (λ z. x ∷ z) (bytes-taken n xs)

bytes-joined : (xs : List ℕ) → map joined_byte (map Byte xs) ≡ xs
bytes-joined [] = refl
bytes-joined (x ∷ xs) = ap (λ z. x ∷ z) (bytes-joined xs)

take-drop_front : (k : ℕ) (x : ℕ) (xs : List ℕ) → take (suc k) (x ∷ xs) ++ drop k xs ≡ x ∷ xs
take-drop_front zero x xs = refl
take-drop_front (suc k) x [] = refl
take-drop_front (suc k) x (y ∷ ys) = ap (λ z. x ∷ z) (take-drop_front k y ys)

-- the first byte of a line, its text and what follows this
split-line : (l w end : List ℕ) → w ++ end ≡ l → (rest : List ℕ) × (l ≡ (take 1 l ++ drop 1 w) ++ rest)
split-line [] [] end e = ([], refl)
split-line (x ∷ l) [] end e = (l, refl)
split-line l (x ∷ w) end e = (end, sym e ∙ ap (λ z. (take 1 z ++ w) ++ end) e)

-- a text that is looked for is not empty
module _ (b : ℕ) (f u : List ℕ) where
  -- each occurrence that is replaced is the text
  occurrences-replaced : (n : ℕ) (xs : List ℕ) → AreReplaced (b ∷ f) u (substituted (b ∷ f) u n (map Byte xs))
  occurrences-replaced n [] = tt
  occurrences-replaced (suc n) (x ∷ xs) = occurrences-replaced n xs
  occurrences-replaced zero (x ∷ xs) = go (begins_with (b ∷ f) (map Byte (x ∷ xs))) refl (λ n. occurrences-replaced n xs)
    where
      go : (y : Bool) → begins_with (b ∷ f) (map Byte (x ∷ xs)) ≡ y → ((n : ℕ) → AreReplaced (b ∷ f) u (substituted (b ∷ f) u n (map Byte xs)))
          → AreReplaced (b ∷ f) u (if y then Replace (take (length (b ∷ f)) (map Byte (x ∷ xs))) u ∷ substituted (b ∷ f) u (length (b ∷ f) - 1) (map Byte xs)
          else Keep (Byte x ∷ []) ∷ substituted (b ∷ f) u zero (map Byte xs))
      go true e more =
          let same : take (length (b ∷ f)) (x ∷ xs) ≡ b ∷ f = ap (take (length (b ∷ f))) (sym (bytes-joined (x ∷ xs))) ∙ (bytes_eq-Decides (take (length (b ∷ f)) (map joined_byte (map Byte (x ∷ xs)))) (b ∷ f)).0 e in
          (bytes-taken (length (b ∷ f)) (x ∷ xs) ∙ same, refl, more (length (b ∷ f) - 1))
      go false e more = more zero

  -- the pieces are those of the text
  pieces-whole : (n : ℕ) (xs : List ℕ) → old_bytes (substituted (b ∷ f) u n (map Byte xs)) ≡ drop n xs
  pieces-whole zero [] = refl
  pieces-whole (suc n) [] = refl
  pieces-whole (suc n) (x ∷ xs) = pieces-whole n xs
  pieces-whole zero (x ∷ xs) = go (begins_with (b ∷ f) (map Byte (x ∷ xs))) (λ n. pieces-whole n xs)
    where
      go : (y : Bool) → ((n : ℕ) → old_bytes (substituted (b ∷ f) u n (map Byte xs)) ≡ drop n xs)
          → old_bytes (if y then Replace (take (length (b ∷ f)) (map Byte (x ∷ xs))) u ∷ substituted (b ∷ f) u (length (b ∷ f) - 1) (map Byte xs)
          else Keep (Byte x ∷ []) ∷ substituted (b ∷ f) u zero (map Byte xs)) ≡ x ∷ xs
      go true more =
          let less : length (b ∷ f) - 1 ≡ length f = omega arith in
          ap (λ z. raw_text (take (length (b ∷ f)) (map Byte (x ∷ xs))) ++ z) (more (length (b ∷ f) - 1) ∙ ap (λ n. drop n xs) less)
          ∙ (ap (λ z. z ++ drop (length f) xs) (bytes-taken (length (b ∷ f)) (x ∷ xs)) ∙ take-drop_front (length f) x xs)
      go false more = ap (λ z. x ∷ z) (more zero)

  -- a recipe line with the text replaced
  recipe-replaces : (l : List ℕ) → Replaces (b ∷ f) u l (rewritten l u (recipe_ranges (b ∷ f) l))
  recipe-replaces l =
      let ps = recipe_pieces (b ∷ f) u l in
      let S = split-line l (without_line_end l) (line_end_bytes (line_end l)) (without_line_end-line_end l) in
      let old : old_bytes ps ≡ take 1 l ++ recipe_text l = ap (λ z. raw_text (map Byte (take 1 l)) ++ z) (pieces-whole 0 (recipe_text l)) ∙ ap (λ z. z ++ recipe_text l) (raw_text-bytes (take 1 l)) in
      let whole : l ≡ old_bytes ps ++ S.0 = S.1 ∙ ap (λ z. z ++ S.0) (sym old) in
      let new : rewritten l u (recipe_ranges (b ∷ f) l) ≡ new_bytes ps ++ S.0 =
      sym (recipe-rewritten (b ∷ f) (omega arith) u l) ∙ (ap (λ z. replaced 0 z (replacements 0 ps)) whole ∙ replaced-pieces [] ps S.0) in
      pieces-replace (b ∷ f) u ps S.0 l (rewritten l u (recipe_ranges (b ∷ f) l)) (occurrences-replaced 0 (recipe_text l)) whole new

-- a line is a recipe line
record IsRecipeLine (m : MarkedLine) : Type 0 where
  meant : m.is_meant ≡ true
  recipe : is_recipe m.line.class ≡ true

changed-recipe : (f u : List ℕ) (m : MarkedLine) → is_each_changed (InRecipe f u) m ≡ true → IsRecipeLine m
changed-recipe f u m e = go m.is_meant (is_recipe m.line.class) refl refl
  where
    go : (b r : Bool) → m.is_meant ≡ b → is_recipe m.line.class ≡ r → IsRecipeLine m
    go true true i j = record { meant = i; recipe = j }
    go true false i j =
        let no : is_each_changed (InRecipe f u) m ≡ false =
        ap (λ b. list_any is_replaced (cond b (change_pieces (InRecipe f u) m.line.class m.line.bytes) [])) i ∙ ap (λ b. list_any is_replaced (cond b (recipe_pieces f u m.line.bytes) [])) j in
        absurd (let w : true ≡ false = sym e ∙ no in cc)
    go false r i j =
        let no : is_each_changed (InRecipe f u) m ≡ false = ap (λ b. list_any is_replaced (cond b (change_pieces (InRecipe f u) m.line.class m.line.bytes) [])) i in
        absurd (let w : true ≡ false = sym e ∙ no in cc)

-- its bytes after the change
recipe-bytes : (f u : List ℕ) (m : MarkedLine) → IsRecipeLine m → each_bytes (InRecipe f u) m ≡ replaced 0 m.line.bytes (replacements 0 (recipe_pieces f u m.line.bytes))
recipe-bytes f u m r =
    ap (λ b. replaced 0 m.line.bytes (replacements 0 (cond b (change_pieces (InRecipe f u) m.line.class m.line.bytes) []))) r.meant
    ∙ ap (λ b. replaced 0 m.line.bytes (replacements 0 (cond b (recipe_pieces f u m.line.bytes) []))) r.recipe

recipe-in : (up down : Lines) (l : List ℕ) → IsRecipe up l → IsRecipe (up ++ down) l
recipe-in up down l (inl e) = inl e
recipe-in up down l (inr h) = inr (h.0, any-in (Has (codes ".RECIPEPREFIX")) up down h.1)

recipes-substituted : (e : EachEdit) (f u t : List ℕ) (rs : List Replacement) → each_change e ≡ InRecipe f u → is_empty f ≡ false → spans t (EachLine e) ≡ Ok rs
    → Recipes f u (logical_lines t) (logical_lines (text_after t (EachLine e)))
recipes-substituted e [] u t rs c some h = absurd (cc)
recipes-substituted e (b ∷ f) u t rs c some h = edit-says e (λ m. Unit {0}) P t rs (subst (λ (z : EachChange). Says z (λ m. Unit {0}) P t) (sym c) say) (any-line (marked e (classed_lines t))) h
  where
    P : List ℕ → List ℕ → Type 0
    P l m = IsRecipe (logical_lines t) l × Replaces (b ∷ f) u l m

    say : Says (InRecipe (b ∷ f) u) (λ m. Unit {0}) P t
    say A m B w k e q =
        let r = changed-recipe (b ∷ f) u m e in
        let lines = (line-in_text t A m.line B w).lines in (
          subst (λ (z : Lines). IsRecipe z m.line.bytes) (sym lines) (recipe-in (bytes_of A) (m.line.bytes ∷ bytes_of B) m.line.bytes (recipe-line t A m.line B w r.recipe)),
          subst (λ z. Replaces (b ∷ f) u m.line.bytes z) (sym (recipe-bytes (b ∷ f) u m r ∙ recipe-rewritten (b ∷ f) (omega arith) u m.line.bytes)) (recipe-replaces b f u m.line.bytes),
        )

-- ---- the rule that is meant

-- some line passes a test, where the lines that do are not missing
some-spot : (test : ClassedLine → Bool) (ls : List ClassedLine) (nth : Option ℕ) → is_missing nth (spots test ls) ≡ false → (s : StandingLine) × IsSpot test ls s
some-spot test ls None h = go (spots test ls) refl h
  where
    go : (ss : List StandingLine) → spots test ls ≡ ss → is_empty ss ≡ false → (s : StandingLine) × IsSpot test ls s
    go [] e k = absurd (cc)
    go (s ∷ ss) e k = (s, picked-is test ls (Some 1) s (ap (nth_of 1) e))
some-spot test ls (Some n) h = go (nth_of n (spots test ls)) refl h
  where
    go : (o : Option StandingLine) → nth_of n (spots test ls) ≡ o → not (is_some o) ≡ false → (s : StandingLine) × IsSpot test ls s
    go None e k = absurd (cc)
    go (Some s) e k = (s, picked-is test ls (Some n) s e)

rule-there : (nth : Option ℕ) (g f u t : List ℕ) (rs : List Replacement) → spans t (EachLine (SubstRecipe nth g f u)) ≡ Ok rs → Any (Names g 58) (logical_lines t)
rule-there nth g f u t rs h =
    let S = some-spot (λ l. is_rule_for g l.class) (classed_lines t) nth (where_holds-none _ NoSuch (accepted t (EachLine (SubstRecipe nth g f u)) rs h).is_there) in
    let s = S.0 in
    let L = line-in_text t s.above s.line s.below S.1.whole in
    subst (Any (Names g 58)) (sym L.lines) (any-there (Names g 58) (bytes_of s.above) s.line.bytes (bytes_of s.below) (rule-names (context_of s.above) g s.line.bytes s.line.class L.class S.1.passes))

-- ---- the edit

-- a text that is looked for is not empty
found-some : (f : List ℕ) → (is_clean f && not (is_empty f)) ≡ true → is_empty f ≡ false
found-some f h = go (is_empty f) (and_parts (is_clean f) (not (is_empty f)) h).1
  where
    go : (b : Bool) → not b ≡ true → b ≡ false
    go true k = absurd (cc)
    go false k = refl

rule-substituted : (nth : Option ℕ) (g f u t : List ℕ) (rs : List Replacement) → spans t (EachLine (SubstRecipe nth g f u)) ≡ Ok rs
    → Any (Names g 58) (logical_lines t) × Recipes f u (logical_lines t) (logical_lines (text_after t (EachLine (SubstRecipe nth g f u))))
rule-substituted nth g f u t rs h =
    let e = SubstRecipe nth g f u in
    let tests = first-passed field.Target (is_target g) _ (accepted t (EachLine e) rs h).arguments in
    let from = first-passed field.From (is_clean f && not (is_empty f)) _ tests.1 in
    (rule-there nth g f u t rs h, recipes-substituted e f u t rs refl (found-some f from.0) h)

all-substituted : (f u t : List ℕ) (rs : List Replacement) → spans t (EachLine (SubstRecipes f u)) ≡ Ok rs → Recipes f u (logical_lines t) (logical_lines (text_after t (EachLine (SubstRecipes f u))))
all-substituted f u t rs h =
    let e = SubstRecipes f u in
    let from = first-passed field.From (is_clean f && not (is_empty f)) _ (accepted t (EachLine e) rs h).arguments in
    recipes-substituted e f u t rs refl (found-some f from.0) h

-- what the statement says of each of these edits
pub each-stated : {A : _} (e : EachEdit.EachEdit A) (t : List ℕ) (rs : List Replacement) → spans t (edit_of (edit.EachLine e)) ≡ Ok rs → Does (edit.EachLine e) (logical_lines t) (logical_lines (text_after t (edit_of (edit.EachLine e))))
each-stated (each.ChangeEach n (line.Prepend v)) t rs h = change-stated n.items (edits.Prepend v.items) t rs h
each-stated (each.ChangeEach n (line.ReplaceWord w v)) t rs h = change-stated n.items (edits.ReplaceWord w.items v.items) t rs h
each-stated (each.ChangeEach n (line.InsertWord s w v)) t rs h = change-stated n.items (edits.InsertWord s w.items v.items) t rs h
each-stated (each.ChangeEach n (line.Substitute f u)) t rs h = change-stated n.items (edits.Substitute f.items u.items) t rs h
each-stated (each.ChangeEach n (line.SetOperator f)) t rs h = change-stated n.items (edits.SetOperator f) t rs h
each-stated (each.SubstValues f u) t rs h = values-substituted f.items u.items t rs h
each-stated (each.SubstRecipe k g f u) t rs h = rule-substituted k g.items f.items u.items t rs h
each-stated (each.SubstRecipes f u) t rs h = all-substituted f.items u.items t rs h
