-- The walk that decides a rename notes the places of the lines that hold the word: the notes so far, and then the places among the
-- lines ahead, are those of the document. A line whose class tells nothing has no effect.
use Rattle.std.proofs.Common.{◌≡◌, refl, sym, ap, ◌∙◌, ℕ, ◌+◌, ◌*◌, ◌<◌, ◌≤◌, Bool, true, false, List, [], ◌∷◌, ◌++◌, length, append-nil, append_assoc, map, Option, Some, None, option_map, arith}
use Rattle.std.specs.Prelude.{IfSome, nat_lt, if◌then◌else◌, ◌&&◌}
use Rattle.std.proofs.lemmas.Bool.{lt-ltb, le-ltb}
use Rattle.std.proofs.lemmas.List.{map-append}
use Rattle.mk_class.specs.Contexts.{Context, context_after_located}
use Rattle.mk_class.specs.declared.class.Class as class
use Rattle.mk_class.specs.declared.class.Class.TheVariants as variants
use Rattle.mk_tree.specs.LocatedLines.{LocatedLine}
use Rattle.mk_edit.specs.RenameTargetEffects.{effect_of_line, no_effect}
use Rattle.mk_edit.specs.RenameTargetPatches.{HeldLine, held_line, held_places_from, held_view, holds_word, is_turn_of, tally_of}
use Rattle.mk_edit.specs.declared.rename_target_effect.Effect.{Effect}
use Rattle.mk_edit.specs.declared.rename_target_places.Held.{Held}
use Rattle.mk_edit_parts.specs.LocatedParts.{IsClassed, is_target_located, is_unread_located}
use Rattle.mk_edit_parts.specs.RenamedRanges.{bytes_in, has_parts, is_at_front, renamed_ranges}
use Rattle.mk_edit_parts.specs.declared.tally.Tally.{Tally}
use Rattle.mk_edit.specs.declared.rename_target_effect.Turn.TheVariants as turn
use Rattle.mk_edit.proofs.on_renaming.SizesOfEffects.{same-effect}
use Rattle.mk_edit.proofs.on_renaming.TargetsHeld.{target-absent}
use Rattle.mk_class.specs.RecipePrefix.{is_prefix_led}
use Rattle.mk_lines.specs.declared.split.Span.{Span}
use Rattle.std.specs.List.{list_any}

-- ---- a line that has no parts

-- What is known of a line without parts: it tells at most that the recipe prefix is set unread.
pub record IsPassedOver (o n : List ℕ) (c : Context) (l : LocatedLine) : Type 0 where
  pub effect : effect_of_line o n c l ≡ record no_effect { has_unread_prefix = is_unread_located l }
  pub free : holds_word o l ≡ false

pub passed-over : (o n : List ℕ) (c : Context) (l : LocatedLine) → has_parts l.class ≡ false → IsPassedOver o n c l
passed-over o n c l h = go l.class h
  where
    -- an effect with no word, by whether the prefix is set unread
    with_unread : (is_unread : Bool) (new_bytes : ℕ) → Effect
    with_unread u w = record no_effect { has_unread_prefix = u; longer = if nat_lt 0 w then 1 else 0 }

    over : (u : Bool) → with_unread u (0 * length n) ≡ record no_effect { has_unread_prefix = u }
    over u = let no_bytes : 0 * length n ≡ 0 = omega arith in ap (with_unread u) no_bytes

    go : (k : class.Class) → has_parts k ≡ false → IsPassedOver o n c (record { bytes = l.bytes; class = k })
    go (variants.Header x) e = absurd (cc)
    go (variants.TargetAssign t) e = absurd (cc)
    go (variants.Assign a p) e = record { effect = over (is_unread_located (record { bytes = l.bytes; class = variants.Assign a p })); free = refl }
    go (variants.DefineHead u) e = record { effect = over u; free = refl }
    go variants.Endef e = record { effect = over false; free = refl }
    go (variants.Body d) e = record { effect = over false; free = refl }
    go variants.Recipe e = record { effect = over false; free = refl }
    go variants.Opaque e = record { effect = over false; free = refl }
    go variants.Blank e = record { effect = over false; free = refl }
    go variants.Comment e = record { effect = over false; free = refl }
    go variants.If e = record { effect = over false; free = refl }
    go variants.Else e = record { effect = over false; free = refl }
    go variants.Endif e = record { effect = over false; free = refl }
    go variants.Directive e = record { effect = over false; free = refl }
    go variants.Rough e = record { effect = over false; free = refl }

-- ---- a line that has parts, but not the word

-- a line with parts does not set the recipe prefix
pub sets-none : (l : LocatedLine) → has_parts l.class ≡ true → is_unread_located l ≡ false
sets-none l h = go l.class h
  where
    go : (k : class.Class) → has_parts k ≡ true → is_unread_located (record { bytes = l.bytes; class = k }) ≡ false
    go (variants.Header x) e = refl
    go (variants.TargetAssign t) e = refl
    go (variants.Assign a p) e = absurd (cc)
    go (variants.DefineHead u) e = absurd (cc)
    go variants.Endef e = refl
    go (variants.Body d) e = refl
    go variants.Recipe e = refl
    go variants.Opaque e = refl
    go variants.Blank e = refl
    go variants.Comment e = refl
    go variants.If e = refl
    go variants.Else e = refl
    go variants.Endif e = refl
    go variants.Directive e = refl
    go variants.Rough e = refl

-- a line without the word that does not set the prefix tells nothing but whether the new word is one of its targets
pub word-absent : (o n : List ℕ) (c : Context) (l : LocatedLine) (t : Tally) → IsClassed l → is_unread_located l ≡ false → t ≡ tally_of o l → t.words ≤ 0
    → effect_of_line o n c l ≡ record no_effect { is_taken = is_target_located n l }
word-absent o n c l t h p e less = go (renamed_ranges o l) refl (omega (arith, less, ap (λ (z : Tally). z.words) e))
  where
    go : (ss : List Span) → renamed_ranges o l ≡ ss → length ss ≤ 0 → effect_of_line o n c l ≡ record no_effect { is_taken = is_target_located n l }
    go (s ∷ ss) i k = absurd (omega (arith, k))
    go [] i k =
        let no_bytes : 0 * length n ≡ 0 = omega arith in
        same-effect (effect_of_line o n c l) (record no_effect { is_taken = is_target_located n l })
        p
        (target-absent o l t h e less)
        (ap (λ ss. list_any is_at_front ss && is_prefix_led c.prefix n) i)
        refl
        (ap length i)
        (ap bytes_in i)
        (ap (λ ss. if is_turn_of turn.NoLonger (length ss) (bytes_in ss) (length n) then 1 else 0) i)
        (ap (λ ss. if is_turn_of turn.Longer (length ss) (bytes_in ss) (length n) then 1 else 0) i ∙ ap (λ w. if nat_lt 0 w then 1 else 0) no_bytes)

-- ---- whether a line holds the word, by how many words of it are replaced

pub holds-some : (o : List ℕ) (l : LocatedLine) (t : Tally) → t ≡ tally_of o l → 0 < t.words → holds_word o l ≡ true
holds-some o l t i h = lt-ltb 0 (length (renamed_ranges o l)) (omega (arith, h, ap (λ (z : Tally). z.words) i))

pub holds-none : (o : List ℕ) (l : LocatedLine) (t : Tally) → t ≡ tally_of o l → t.words ≤ 0 → holds_word o l ≡ false
holds-none o l t i h = le-ltb 0 (length (renamed_ranges o l)) (omega (arith, h, ap (λ (z : Tally). z.words) i))

-- ---- the notes

-- with the places among the lines ahead, notes are all places; the notes may have been dropped
abbrev pub AreNoted : {A : _} {X : Type 0} (items : X → List (Held A)) → (notes : Option X) → (ahead all : List HeldLine) → Type 0
AreNoted items notes ahead all = IfSome notes (λ p. map held_view (items p) ++ ahead ≡ all)

module _ {A : _} {X : Type 0} (items : X → List (Held A)) (o : List ℕ) (all : List HeldLine) (at : ℕ) (c a : Context) (l : LocatedLine) (ahead left : List LocatedLine) (first_is : ahead ≡ l ∷ left) (then_in : a ≡ context_after_located c l.class) where
  -- the places among the lines ahead, by whether the first of them holds the word
  abbrev with_first : Bool → List HeldLine
  with_first b =
      let below = held_places_from o (at + 1) a left in
      if b then held_line o at c l ∷ below else below

  places-first : (b : Bool) → holds_word o l ≡ b → held_places_from o at c ahead ≡ with_first b
  places-first b h =
      ap (held_places_from o at c) first_is
      ∙ (ap (λ z. if holds_word o l then held_line o at c l ∷ held_places_from o (at + 1) z left else held_places_from o (at + 1) z left) (sym then_in)
      ∙ ap with_first h)

  -- one line on, which does not hold the word
  pub notes-kept : (notes : Option X) → holds_word o l ≡ false → AreNoted items notes (held_places_from o at c ahead) all → AreNoted items notes (held_places_from o (at + 1) a left) all
  notes-kept None h k = tt
  notes-kept (Some p) h k = ap (λ z. map held_view (items p) ++ z) (sym (places-first false h)) ∙ k

  -- one line on, which holds the word: its place and its count are noted, or the notes are dropped
  pub notes-more : (before after : Option X) (held : Held A) → held_view held ≡ held_line o at c l → holds_word o l ≡ true → IfSome after (λ q. Some (items q) ≡ option_map (λ p. items p ++ held ∷ []) before)
      → AreNoted items before (held_places_from o at c ahead) all → AreNoted items after (held_places_from o (at + 1) a left) all
  notes-more before None held e h w k = tt
  notes-more None (Some q) held e h w k = absurd (cc)
  notes-more (Some p) (Some q) held e h w k =
      let below = held_places_from o (at + 1) a left in
      let i : items q ≡ items p ++ held ∷ [] = cc in
      let noted : List HeldLine = map held_view (items p) in
      ap (λ z. z ++ below) (ap (map held_view) i ∙ (map-append held_view (items p) (held ∷ []) ∙ ap (λ (z : HeldLine). noted ++ z ∷ []) e))
      ∙ (append_assoc noted (held_line o at c l ∷ []) below
      ∙ (ap (λ z. noted ++ z) (sym (places-first true h)) ∙ k))

-- at the end of the walk
pub notes-all : {A : _} {X : Type 0} (items : X → List (Held A)) (o : List ℕ) (all : List HeldLine) (at : ℕ) (c : Context) (ahead : List LocatedLine) (notes : Option X) → ahead ≡ [] → AreNoted items notes (held_places_from o at c ahead) all
    → IfSome notes (λ p. map held_view (items p) ≡ all)
notes-all items o all at c ahead None s k = tt
notes-all items o all at c ahead (Some p) s k = sym (append-nil (map held_view (items p))) ∙ (ap (λ z. map held_view (items p) ++ held_places_from o at c z) (sym s) ∙ k)
