-- Lemmas on migrations: nothing changes, and one more assignment changes.
use Rattle.std.proofs.Common.{◌≡◌, refl, sym, ap, ◌∙◌, subst, ℕ, List, [], ◌∷◌, ◌++◌, Option, Some, None, option_map, inl, inr}
use Rattle.std.specs.Prelude.{Ok}
use Rattle.mk_class.specs.ClassedLines.{ClassedLine, classed_lines}
use Rattle.mk_tree.specs.LineTexts.{StandingLine}
use Rattle.mk_edit_language.specs.Edits.{One, Set, Edit, ChangeValue}
use Rattle.mk_edit_language.specs.Addresses.{Variable, assigns, found}
use Rattle.mk_edit_language.specs.EditLaws.{EditedLinesStand}
use Rattle.mk_edit_language.specs.Stretches.{this_line}
use Rattle.mk_edit_language.specs.declared.refusal.Refusal.{Refusal}
use Rattle.mk_edit_language.proofs.on_lines.SpotLemmas.{picked-is}
use Rattle.mk_history.specs.Machine.{Apply}
use Rattle.mk_history.specs.Shown.{Shown}
use Rattle.mk_session.specs.Lookups.{looked_up, value_at, value_unless}
use Rattle.mk_session.specs.CallerLaws.{EditsKeepTheirOtherLines, EditsReplaceTheirSpans}
use Rattle.mk_session.specs.Sessions.{answer}
use Rattle.caller_example.specs.Migrated.{AreMigrated, HasValue}

pub migrated_same : (n v : List ℕ) (ls : List ClassedLine) → AreMigrated n v ls ls
migrated_same n v [] = tt
migrated_same n v (l ∷ ls) = (inl refl, migrated_same n v ls)

migrated-one : (n v : List ℕ) (first A : List ClassedLine) (l m : ClassedLine) (B : List ClassedLine) → HasValue n v l → AreMigrated n v first (A ++ l ∷ B) → AreMigrated n v first (A ++ m ∷ B)
migrated-one n v [] [] l m B p h = absurd h
migrated-one n v [] (a ∷ A) l m B p h = absurd h
migrated-one n v (f ∷ first) [] l m B p h = (inr (elim h.0 [ inl e ↦ subst (HasValue n v) e p | inr q ↦ q ]), h.1)
migrated-one n v (f ∷ first) (a ∷ A) l m B p h = (h.0, migrated-one n v first A l m B p h.1)

value-found : (o : Option Refusal) (s : Option StandingLine) (v : List ℕ) → value_unless o s ≡ Ok v → value_at s ≡ v
value-found None s v h = cc
value-found (Some r) s v h = absurd (cc)

-- `set` at the assignment of a number, which had the old value
pub set-migrates : EditsReplaceTheirSpans → EditsKeepTheirOtherLines → EditedLinesStand → (n v w : List ℕ) (k : ℕ) (s t : Shown (List ℕ)) → looked_up s.text (Some k) n ≡ Ok v
    → answer (Apply (ChangeValue (One (Some k)) n (Set w))) s ≡ Ok t → (first : List ClassedLine) → AreMigrated n v first (classed_lines s.text) → AreMigrated n v first (classed_lines t.text)
set-migrates spans_law lines_law stand_law n v w k s t looked made first h = go (found ls (Variable (Some k) n)) refl (lines_law e s t tt made).place
  where
    e : Edit
    e = ChangeValue (One (Some k)) n (Set w)

    ls : List ClassedLine
    ls = classed_lines s.text

    go : (o : Option StandingLine) → found ls (Variable (Some k) n) ≡ o → option_map this_line o ≡ Some (lines_law e s t tt made).touched → AreMigrated n v first (classed_lines t.text)
    go None i p = absurd (cc)
    go (Some x) i p =
        let R = spans_law e s t made in
        let spot = picked-is (λ l. assigns n l.class) ls (Some k) x i in
        let had : HasValue n v x.line = (spot.passes, ap value_at (sym i) ∙ value-found _ (found ls (Variable (Some k) n)) v looked) in
        let after = ap classed_lines R.1.1 ∙ stand_law s.text e R.0 (this_line x) R.1.0 (ap (option_map this_line) i) in
        subst (AreMigrated n v first) (sym after) (migrated-one n v first x.above x.line _ x.below had (subst (AreMigrated n v first) spot.whole h))
