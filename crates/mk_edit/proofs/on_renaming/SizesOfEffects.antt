-- The effect of a rename, gathered by a walk over the lines of a document: there is room for each sum, and it is that on all lines.
use Rattle.std.proofs.Common.{◌≡◌, refl, sym, ap, ◌∙◌, subst, arith, ℕ, ◌+◌, ◌*◌, ◌≤◌, Bool, true, false, List, [], ◌∷◌, length, filter}
use Rattle.std.specs.Prelude.{if◌then◌else◌, ◌||◌}
use Rattle.std.proofs.Math.Bool.{or-false, or_assoc}
use Rattle.mk_lines.specs.Limits.{max_text}
use Rattle.mk_class.specs.ClassedLines.{classed_lines}
use Rattle.mk_class.specs.Contexts.{Context, start, context_after_located}
use Rattle.mk_tree.specs.Documents.{IsFaithful}
use Rattle.mk_tree.specs.LocatedLines.{LocatedLine, located_text, size_of}
use Rattle.mk_tree.specs.TreeWalks.{LinesInContext}
use Rattle.mk_tree.proofs.on_documents.LinesInText.{AreClassed-lines}
use Rattle.mk_edit.specs.declared.rename_target_effect.Effect.{Effect}
use Rattle.mk_edit.specs.declared.rename_target_effect.Turn.TheVariants as turn
use Rattle.mk_edit.specs.RenameTargetEffects.{effect_of_line, effect_on, joined, no_effect, replaced_bytes, replaced_words}
use Rattle.mk_edit.specs.RenameTargetPatches.{exchanged_count, is_exchanged, HaveFewWords}
use Rattle.mk_edit_parts.proofs.on_finding.SeekLemmas.{faithful-each}
use Rattle.mk_edit.proofs.on_renaming.LinesAlong.{lines-few_words}
use Rattle.mk_edit.proofs.on_renaming.PatchPlans.{filter-step}
use Rattle.mk_edit.proofs.on_renaming.SizesOfWords.{all-bytes, all-words}

-- ---- effects joined

pub same-effect : (e f : Effect) → e.has_unread_prefix ≡ f.has_unread_prefix → e.is_there ≡ f.is_there → e.begins_line ≡ f.begins_line → e.is_taken ≡ f.is_taken → e.words ≡ f.words → e.bytes ≡ f.bytes → e.no_longer ≡ f.no_longer
    → e.longer ≡ f.longer → e ≡ f
same-effect e f u t l k w b s g =
    let mk : (u t l k : Bool) → (w b s g : ℕ) → Effect = λ u t l k w b s g. record { has_unread_prefix = u; is_there = t; begins_line = l; is_taken = k; words = w; bytes = b; no_longer = s; longer = g } in
    ap (λ z. mk z e.is_there e.begins_line e.is_taken e.words e.bytes e.no_longer e.longer) u
    ∙ (ap (λ z. mk f.has_unread_prefix z e.begins_line e.is_taken e.words e.bytes e.no_longer e.longer) t
    ∙ (ap (λ z. mk f.has_unread_prefix f.is_there z e.is_taken e.words e.bytes e.no_longer e.longer) l
    ∙ (ap (λ z. mk f.has_unread_prefix f.is_there f.begins_line z e.words e.bytes e.no_longer e.longer) k
    ∙ (ap (λ z. mk f.has_unread_prefix f.is_there f.begins_line f.is_taken z e.bytes e.no_longer e.longer) w
    ∙ (ap (λ z. mk f.has_unread_prefix f.is_there f.begins_line f.is_taken f.words z e.no_longer e.longer) b
    ∙ (ap (λ z. mk f.has_unread_prefix f.is_there f.begins_line f.is_taken f.words f.bytes z e.longer) s
    ∙ ap (mk f.has_unread_prefix f.is_there f.begins_line f.is_taken f.words f.bytes f.no_longer) g))))))

joined-none : (e : Effect) → joined e no_effect ≡ e
joined-none e =
    same-effect (joined e no_effect) e (or-false e.has_unread_prefix) (or-false e.is_there) (or-false e.begins_line) (or-false e.is_taken) (omega arith) (omega arith) (omega arith) (omega arith)

pub none-joined : (e : Effect) → joined no_effect e ≡ e
none-joined e = same-effect (joined no_effect e) e refl refl refl refl (omega arith) (omega arith) (omega arith) (omega arith)

-- with an effect that tells nothing but that a line sets the prefix unread
pub joined-unread : (e : Effect) (u : Bool) → joined e (record no_effect { has_unread_prefix = u }) ≡ record e { has_unread_prefix = e.has_unread_prefix || u }
joined-unread e u =
    same-effect (joined e (record no_effect { has_unread_prefix = u })) (record e { has_unread_prefix = e.has_unread_prefix || u }) refl (or-false e.is_there) (or-false e.begins_line) (or-false e.is_taken) (omega arith) (omega arith) (omega arith) (omega arith)

-- with an effect that tells nothing but that the new word is a target
pub joined-taken : (e : Effect) (t : Bool) → joined e (record no_effect { is_taken = t }) ≡ record e { is_taken = e.is_taken || t }
joined-taken e t =
    same-effect (joined e (record no_effect { is_taken = t })) (record e { is_taken = e.is_taken || t }) (or-false e.has_unread_prefix) (or-false e.is_there) (or-false e.begins_line) refl (omega arith) (omega arith) (omega arith) (omega arith)

joined-assoc : (e f g : Effect) → joined (joined e f) g ≡ joined e (joined f g)
joined-assoc e f g =
    same-effect (joined (joined e f) g) (joined e (joined f g)) (or_assoc e.has_unread_prefix f.has_unread_prefix g.has_unread_prefix) (or_assoc e.is_there f.is_there g.is_there) (or_assoc e.begins_line f.begins_line g.begins_line)
    (or_assoc e.is_taken f.is_taken g.is_taken) (omega arith) (omega arith) (omega arith) (omega arith)

-- the effect on a line, and then on the lines below it
pub effect-cons : (o n : List ℕ) (c : Context) (l : LocatedLine) (ls : List LocatedLine) → joined (effect_of_line o n c l) (effect_on o n (context_after_located c l.class) ls) ≡ effect_on o n c (l ∷ ls)
effect-cons o n c l ls =
    same-effect (joined (effect_of_line o n c l) (effect_on o n (context_after_located c l.class) ls)) (effect_on o n c (l ∷ ls)) refl refl refl refl refl refl (sym (filter-step (is_exchanged turn.NoLonger o n) l ls))
    (sym (filter-step (is_exchanged turn.Longer o n) l ls))

-- ---- the walk

-- the lines of a faithful document within the limit have few words
pub document-few_words : (o : List ℕ) (ls : List LocatedLine) → IsFaithful ls → size_of ls ≤ max_text → HaveFewWords o ls
document-few_words o ls f few =
    let ds = classed_lines (located_text ls) in
    subst (HaveFewWords o) (sym f) (lines-few_words o start ds (AreClassed-lines (located_text ls) ds refl) (subst (λ (z : List LocatedLine). size_of z ≤ max_text) f few))

-- lines that pass a test are no more than the lines
pub filter-few : (p : LocatedLine → Bool) (ls : List LocatedLine) → length (filter p ls) ≤ length ls
filter-few p [] = omega arith
filter-few p (l ∷ ls) = go (p l) (filter-step p l ls) (filter-few p ls)
  where
    go : (b : Bool) → length (filter p (l ∷ ls)) ≡ (if b then 1 else 0) + length (filter p ls) → length (filter p ls) ≤ length ls → length (filter p (l ∷ ls)) ≤ length (l ∷ ls)
    go true h few = omega (arith, h, few)
    go false h few = omega (arith, h, few)

-- There is room for the effect on one line more.
pub record HasRoom (e f : Effect) : Type 0 where
  pub words : e.words + f.words ≤ 3 * max_text
  pub bytes : e.bytes + f.bytes ≤ max_text
  pub no_longer : e.no_longer + f.no_longer ≤ max_text
  pub longer : e.longer + f.longer ≤ max_text

pub room-ahead : (o n : List ℕ) (d : List LocatedLine) (e f : Effect) (w : LinesInContext) (c : Context) (l : LocatedLine) (rest : List LocatedLine) → w.lines ≡ l ∷ rest → f ≡ effect_of_line o n c l
    → joined e (effect_on o n w.context w.lines) ≡ effect_on o n start d → IsFaithful d → size_of d ≤ max_text → length d ≤ size_of d → HasRoom e f
room-ahead o n d e f w c l rest s j i h k few =
    let words : e.words + replaced_words o w.lines ≡ replaced_words o d = ap (λ (z : Effect). z.words) i in
    let bytes : e.bytes + replaced_bytes o w.lines ≡ replaced_bytes o d = ap (λ (z : Effect). z.bytes) i in
    let no_longer : e.no_longer + exchanged_count turn.NoLonger o n w.lines ≡ exchanged_count turn.NoLonger o n d = ap (λ (z : Effect). z.no_longer) i in
    let longer : e.longer + exchanged_count turn.Longer o n w.lines ≡ exchanged_count turn.Longer o n d = ap (λ (z : Effect). z.longer) i in
    record {
      words = omega (arith, words, ap (replaced_words o) s, ap (λ (z : Effect). z.words) j, all-words o d, k);
      bytes = omega (arith, bytes, ap (replaced_bytes o) s, ap (λ (z : Effect). z.bytes) j, all-bytes o d (faithful-each d h), k);
      no_longer =
          omega (arith, no_longer, ap (exchanged_count turn.NoLonger o n) s, filter-step (is_exchanged turn.NoLonger o n) l rest, ap (λ (z : Effect). z.no_longer) j, filter-few (is_exchanged turn.NoLonger o n) d, k, few);
      longer = omega (arith, longer, ap (exchanged_count turn.Longer o n) s, filter-step (is_exchanged turn.Longer o n) l rest, ap (λ (z : Effect). z.longer) j, filter-few (is_exchanged turn.Longer o n) d, k, few);
    }

-- one line on
pub walk-on : (o n : List ℕ) (e f g whole : Effect) (c there a : Context) (l : LocatedLine) (ahead rest : List LocatedLine) → g ≡ joined e f → f ≡ effect_of_line o n there l → there ≡ c → ahead ≡ l ∷ rest → a ≡ context_after_located c l.class
    → joined e (effect_on o n c ahead) ≡ whole → joined g (effect_on o n a rest) ≡ whole
walk-on o n e f g whole c there a l ahead rest h i same s k inv =
    let E = effect_on o n (context_after_located c l.class) rest in
    ap (λ z. joined g (effect_on o n z rest)) k
    ∙ (ap (λ z. joined z E) (h ∙ ap (joined e) (i ∙ ap (λ z. effect_of_line o n z l) same))
    ∙ (joined-assoc e (effect_of_line o n c l) E
    ∙ (ap (joined e) (effect-cons o n c l rest)
    ∙ (ap (λ z. joined e (effect_on o n c z)) (sym s) ∙ inv))))

-- the effect at the end of the walk
pub walk-over : (o n : List ℕ) (e whole : Effect) (c : Context) (ls : List LocatedLine) → ls ≡ [] → joined e (effect_on o n c ls) ≡ whole → e ≡ whole
walk-over o n e whole c ls s inv = sym (joined-none e) ∙ (ap (λ z. joined e (effect_on o n c z)) (sym s) ∙ inv)

pub effect-bytes : (o n : List ℕ) (e : Effect) (d : List LocatedLine) → e ≡ effect_on o n start d → IsFaithful d → size_of d ≤ max_text → e.bytes ≤ max_text
effect-bytes o n e d i h k = omega (arith, ap (λ (z : Effect). z.bytes) i, all-bytes o d (faithful-each d h), k)

-- the numbers of lines in an effect are those that are exchanged in the two turns
pub lines-number : (o n : List ℕ) (d : List LocatedLine) (e : Effect) → e ≡ effect_on o n start d → exchanged_count turn.NoLonger o n d + exchanged_count turn.Longer o n d ≡ e.no_longer + e.longer
lines-number o n d e i = omega (arith, ap (λ (z : Effect). z.no_longer) i, ap (λ (z : Effect). z.longer) i)
