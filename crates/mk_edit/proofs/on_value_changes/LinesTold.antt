-- What the code asks of a line of a document, told of the line as it is defined: whether a change changes it, and whether the
-- value is open to the change.
use Rattle.std.proofs.Common.{◌≡◌, refl, sym, ap, ◌∙◌, ℕ, ◌&&◌, ◌||◌, Bool, true, false, not, List, Some, None}
use Rattle.std.specs.Str.{bytes_eq}
use Rattle.mk_lines.specs.Lists.{concat}
use Rattle.mk_lines.specs.Cells.{Cell, joined_byte}
use Rattle.mk_lines.specs.Units.{is_closed}
use Rattle.mk_lines.specs.Words.{words_in}
use Rattle.mk_class.specs.Assignments.{Assignment}
use Rattle.mk_class.specs.Texts.{is_one_of}
use Rattle.mk_class.specs.Classes.{Class}
use Rattle.mk_class.specs.Classes.Class.{Assign}
use Rattle.mk_class.specs.ClassTable.{class_of}
use Rattle.mk_class.specs.ClassedLines.{ClassedLine}
use Rattle.mk_class.specs.Contexts.{Context}
use Rattle.mk_class.specs.LocatedClasses.{located_class}
use Rattle.mk_class.specs.RecipePrefix.{is_prefix_name}
use Rattle.mk_tree.specs.LocatedLines.{located_line}
use Rattle.mk_edit_language.specs.Edits.{ValueChange, Set, SetIf, Append, Add, Remove}
use Rattle.mk_edit_language.specs.Addresses.{assigns}
use Rattle.mk_edit_language.specs.LineCauses.{bares_end_among, ends_in_fold, is_open_to}
use Rattle.mk_edit_language.specs.ValueChanges.{has_effect, is_changed}
use Rattle.mk_edit_language.proofs.on_values.FoundAssignments.{assigned-in_context}
use Rattle.mk_edit_parts.specs.LineRanges.{ends_in_fold_located}
use Rattle.mk_edit_parts.proofs.on_finding.PartLemmas.{assigns-located}
use Rattle.mk_edit.specs.ValueChangeLines.{has_effect_located, is_changed_located, is_open_located, value_text_located}
use Rattle.mk_edit.proofs.on_values.OwnLines.{own-fold}
use Rattle.mk_edit.proofs.on_value_changes.ChangedBytes.{line-own, line-text}

-- ---- a line that assigns the name

-- what is known of it
pub record IsNamedLine (x : Context) (k : ClassedLine) : Type 0 where
  pub assigned : Assignment Cell
  pub here : class_of x k.bytes ≡ Assign assigned None
  pub class_is : k.class ≡ Assign assigned None
  pub located : (located_line k).class ≡ located_class joined_byte (Assign assigned None)

pub named-line : (x : Context) (n : List ℕ) (k : ClassedLine) → class_of x k.bytes ≡ k.class → assigns n k.class ≡ true → is_prefix_name n ≡ false → IsNamedLine x k
named-line x n k h t f =
    let A = assigned-in_context x n k h t f in
    record { assigned = A.assigned; here = h ∙ A.class_is; class_is = A.class_is; located = ap (located_class joined_byte) A.class_is }

-- whether the change does something to its value
pub effect-told : (c : ValueChange) (x : Context) (k : ClassedLine) → IsNamedLine x k → has_effect_located c (located_line k) ≡ has_effect c (Some k.class)
effect-told (Set v) x k N = refl
effect-told (SetIf o v) x k N =
    let T = line-text x (located_line k) N.assigned (value_text_located (located_line k)) N.here N.located refl in
    ap (λ t. bytes_eq t o) T.text_is ∙ ap (λ (q : Class Cell). has_effect (SetIf o v) (Some q)) (sym N.class_is)
effect-told (Append v) x k N = refl
effect-told (Add w) x k N =
    let T = line-text x (located_line k) N.assigned (value_text_located (located_line k)) N.here N.located refl in
    ap (λ ws. not (is_one_of w ws)) T.words_are ∙ ap (λ (q : Class Cell). has_effect (Add w) (Some q)) (sym N.class_is)
effect-told (Remove w) x k N =
    let T = line-text x (located_line k) N.assigned (value_text_located (located_line k)) N.here N.located refl in
    ap (λ ws. is_one_of w ws) T.words_are ∙ ap (λ (q : Class Cell). has_effect (Remove w) (Some q)) (sym N.class_is)

-- whether its value is open to the change
pub open-told : (c : ValueChange) (x : Context) (k : ClassedLine) → IsNamedLine x k → is_open_located c (located_line k) ≡ is_open_to c (Some k.class)
open-told (Set v) x k N = refl
open-told (SetIf o v) x k N = refl
open-told (Append v) x k N =
    let T = line-text x (located_line k) N.assigned (value_text_located (located_line k)) N.here N.located refl in
    ap not T.closed_is ∙ ap (λ (q : Class Cell). is_open_to (Append v) (Some q)) (sym N.class_is)
open-told (Add w) x k N =
    let a = N.assigned in
    let T = line-text x (located_line k) a (value_text_located (located_line k)) N.here N.located refl in
    let fold : ends_in_fold_located (located_line k) ≡ ends_in_fold a = ap ends_in_fold_located (line-own x (located_line k) a N.located) ∙ own-fold x k.bytes a N.here in
    ap (λ q. not q || ends_in_fold_located (located_line k)) T.closed_is
    ∙ (ap (λ q. not (is_closed joined_byte (concat a.value)) || q) fold ∙ ap (λ (q : Class Cell). is_open_to (Add w) (Some q)) (sym N.class_is))
open-told (Remove w) x k N =
    let a = N.assigned in
    let text = value_text_located (located_line k) in
    let T = line-text x (located_line k) a text N.here N.located refl in
    ap (λ q. not q || bares_end_among w (words_in text)) T.closed_is
    ∙ (ap (λ ws. not (is_closed joined_byte (concat a.value)) || bares_end_among w ws) T.words_are ∙ ap (λ (q : Class Cell). is_open_to (Remove w) (Some q)) (sym N.class_is))

-- ---- any line

module _ (n : List ℕ) (c : ValueChange) (f : is_prefix_name n ≡ false) where
  pub changed-told : (x : Context) (k : ClassedLine) → class_of x k.bytes ≡ k.class → is_changed_located n c (located_line k) ≡ is_changed n c k
  changed-told x k h = ap (λ b. b && has_effect_located c (located_line k)) (assigns-located n x k h) ∙ go (assigns n k.class) refl
    where
      go : (b : Bool) → assigns n k.class ≡ b → (b && has_effect_located c (located_line k)) ≡ (b && has_effect c (Some k.class))
      go true e = effect-told c x k (named-line x n k h e f)
      go false e = refl

  -- whether it is changed and its value is open to the change
  pub opened-told : (x : Context) (k : ClassedLine) → class_of x k.bytes ≡ k.class → (is_changed_located n c (located_line k) && is_open_located c (located_line k)) ≡ (is_changed n c k && is_open_to c (Some k.class))
  opened-told x k h = ap (λ b. b && is_open_located c (located_line k)) (changed-told x k h) ∙ go (assigns n k.class) refl
    where
      both : (e o p : Bool) → o ≡ p → (e && o) ≡ (e && p)
      both true o p i = i
      both false o p i = refl

      go : (b : Bool) → assigns n k.class ≡ b → ((b && has_effect c (Some k.class)) && is_open_located c (located_line k)) ≡ ((b && has_effect c (Some k.class)) && is_open_to c (Some k.class))
      go true e = both (has_effect c (Some k.class)) (is_open_located c (located_line k)) (is_open_to c (Some k.class)) (open-told c x k (named-line x n k h e f))
      go false e = refl

-- a line that is changed assigns the name
pub changed-assigns : (n : List ℕ) (c : ValueChange) (k : ClassedLine) → is_changed n c k ≡ true → assigns n k.class ≡ true
changed-assigns n c k h = go (assigns n k.class) h
  where
    go : (b : Bool) → (b && has_effect c (Some k.class)) ≡ true → b ≡ true
    go true e = refl
    go false e = e
