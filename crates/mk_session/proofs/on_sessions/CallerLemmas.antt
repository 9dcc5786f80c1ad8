-- What a caller of a session relies on, for the crates above too.
use Rattle.std.proofs.Common.{◌≡◌, refl, sym, ap, ◌∙◌, subst, ℕ, zero, suc, ◌<◌, ◌+◌, List, [], ◌∷◌, ◌++◌, length, map, take, Some, None, Result, Ok, Err, arith}
use Rattle.mk_edit_language.specs.Edits.{Edit}
use Rattle.mk_edit_language.specs.declared.refusal.Refusal.{Refusal}
use Rattle.mk_history.specs.Machine as machine
use Rattle.mk_history.specs.Machine.{Command, Apply, Undo, Redo, Begin, End, Cancel}
use Rattle.mk_history.specs.Shown.{Shown, shown_answer}
use Rattle.mk_session.specs.Sessions.{answer, edited}
use Rattle.mk_session.specs.InTurn.{answers, as_group}
use Rattle.mk_session.specs.CallerLaws.{UndoTakesBackAnEdit, AnEditCanBeUndone, RedoMakesAgain, UndoTakesBackARedo, IsInGroup, BeginOpensAGroup, EditsStayInTheirGroup, CancelShowsTheBeginning, UndoTakesBackAGroup, CancelTakesBackAllEdits, UndoTakesBackAllEdits, AGroupCanBeUndone, NoEditsAreNoStep}

module _ {E T R : Type 0} (act : E → T → Result T R) where
  take-front : {A : Type 0} (n : ℕ) (x y : A) (xs ys : List A) → take n (x ∷ xs) ≡ y ∷ ys → y ≡ x
  take-front zero x y xs ys taken = grind arith
  take-front (suc n) x y xs ys taken = grind arith

  edit-taken_back : (e : E) (s t u : Shown T) → s.begun ≡ None → shown_answer act (Apply e) s ≡ Ok t → shown_answer act Undo t ≡ Ok u → u.text ≡ s.text
  edit-taken_back e s t u none applied undone = grind (arith, take-front)

  still-closed : (e : E) (s t : Shown T) → s.begun ≡ None → shown_answer act (Apply e) s ≡ Ok t → t.begun ≡ None
  still-closed e s t none applied = grind arith

  text-kept : (e : E) (s t : Shown T) → s.begun ≡ None → shown_answer act (Apply e) s ≡ Ok t → t.back ≡ take s.depth (s.text ∷ s.back)
  text-kept e s t none applied = grind arith

  still-open : (b : T) (e : E) (s t : Shown T) → s.begun ≡ Some b → shown_answer act (Apply e) s ≡ Ok t → t.begun ≡ Some b
  still-open b e s t within applied = grind arith

  counted : (b : T) (e : E) (s t : Shown T) → s.begun ≡ Some b → shown_answer act (Apply e) s ≡ Ok t → t.pending ≡ s.pending + 1
  counted b e s t within applied = grind arith

  group-taken_back : (b : T) (s t u : Shown T) → s.begun ≡ Some b → 0 < s.pending → shown_answer act End s ≡ Ok t → shown_answer act Undo t ≡ Ok u → u.text ≡ b
  group-taken_back b s t u within some ended undone = grind (arith, take-front)

  depth-kept : (c : Command E) (s t : Shown T) → shown_answer act c s ≡ Ok t → t.depth ≡ s.depth
  depth-kept (Apply e) s t h = grind arith
  depth-kept Undo s t h = grind arith
  depth-kept Redo s t h = grind arith
  depth-kept Begin s t h = grind arith
  depth-kept End s t h = grind arith
  depth-kept Cancel s t h = grind arith

  ended-back : (b : T) (s t : Shown T) → s.begun ≡ Some b → 0 < s.pending → shown_answer act End s ≡ Ok t → t.back ≡ take s.depth (b ∷ s.back)
  ended-back b s t within some h = grind arith

  ended-closed : (b : T) (s t : Shown T) → s.begun ≡ Some b → shown_answer act End s ≡ Ok t → t.begun ≡ None
  ended-closed b s t within h = grind arith

  begun-same : (s t : Shown T) → shown_answer act Begin s ≡ Ok t → (t.text ≡ s.text) × (t.back ≡ s.back) × (t.forward ≡ s.forward)
  begun-same s t h = (grind arith, grind arith, grind arith)

  nothing-ended : (b : T) (s t : Shown T) → s.begun ≡ Some b → s.pending ≡ 0 → shown_answer act End s ≡ Ok t → (t.text ≡ s.text) × (t.back ≡ s.back) × (t.forward ≡ s.forward)
  nothing-ended b s t within none h = (grind arith, grind arith, grind arith)

-- an undo is granted if the texts that undoing leads through are the first of some
undoable : (s : Shown (List ℕ)) (x : List ℕ) (xs : List (List ℕ)) (n : ℕ) → 0 < n → s.begun ≡ None → s.back ≡ take n (x ∷ xs) → (u : Shown (List ℕ)) × (answer Undo s ≡ Ok u)
undoable s x xs zero deep none back = absurd (omega (arith, deep))
undoable s x xs (suc n) deep none back = (record s { text = x; back = take n xs; forward = s.text ∷ s.forward }, rw (none, back) refl)

pub edit-undone : UndoTakesBackAnEdit
edit-undone = edit-taken_back edited

pub edit-undoable : AnEditCanBeUndone
edit-undoable e s t none deep applied = undoable t s.text s.back s.depth deep (still-closed edited e s t none applied) (text-kept edited e s t none applied)

pub redo-again : RedoMakesAgain
redo-again s t undone = grind arith

pub redo-undone : UndoTakesBackARedo
redo-undone s t redone = grind arith

pub begin-opens : BeginOpensAGroup
begin-opens s t begun = grind arith

pub edit-stays : EditsStayInTheirGroup
edit-stays = still-open edited

pub cancel-shows : CancelShowsTheBeginning
cancel-shows b s t within cancelled = grind arith

pub group-undone : UndoTakesBackAGroup
group-undone = group-taken_back edited

-- ---- groups, as a whole

-- a call, and others after it
split-first : (c : Command Edit) (cs : List (Command Edit)) (s t : Shown (List ℕ)) → answers (c ∷ cs) s ≡ Ok t
    → (m : Shown (List ℕ)) × ((answer c s ≡ Ok m) × (answers cs m ≡ Ok t))
split-first c cs s t h = go (answer c s) refl h
  where
    go : (r : Result (Shown (List ℕ)) (machine.Refusal Refusal)) → answer c s ≡ r
        → elim r as (λ (x : Result (Shown (List ℕ)) (machine.Refusal Refusal)). Result (Shown (List ℕ)) (machine.Refusal Refusal)) [ Ok m ↦ answers cs m | Err q ↦ Err q ] ≡ Ok t
        → (m : Shown (List ℕ)) × ((answer c s ≡ Ok m) × (answers cs m ≡ Ok t))
    go (Ok m) same h = (m, (same, h))
    go (Err q) same h = absurd (cc)

-- edits in an open group, and calls after them
in-group : (es : List Edit) (b : List ℕ) (s t : Shown (List ℕ)) (cs : List (Command Edit)) → IsInGroup b s → answers (map Apply es ++ cs) s ≡ Ok t
    → (m : Shown (List ℕ)) × (IsInGroup b m × ((m.pending ≡ s.pending + length es) × (answers cs m ≡ Ok t)))
in-group [] b s t cs within h = (s, (within, (omega arith, h)))
in-group (e ∷ es) b s t cs within h =
    let first = split-first (Apply e) (map Apply es ++ cs) s t h in
    let more = counted edited b e s first.0 within first.1.0 in
    let rest = in-group es b first.0 t cs (edit-stays b e s first.0 within first.1.0) first.1.1 in
    (rest.0, (rest.1.0, (omega (arith, more, rest.1.1.0), rest.1.1.1)))

begins-fresh : (s t : Shown (List ℕ)) → answer Begin s ≡ Ok t → t.pending ≡ 0
begins-fresh s t begun = grind arith

-- a whole group, and its last call
whole-group : (es : List Edit) (c : Command Edit) (s t : Shown (List ℕ)) → answers (Begin ∷ map Apply es ++ c ∷ []) s ≡ Ok t
    → (m : Shown (List ℕ)) × (IsInGroup s.text m × ((m.pending ≡ length es) × (answer c m ≡ Ok t)))
whole-group es c s t h =
    let first = split-first Begin (map Apply es ++ c ∷ []) s t h in
    let fresh = begins-fresh s first.0 first.1.0 in
    let rest = in-group es s.text first.0 t (c ∷ []) (begin-opens s first.0 first.1.0) first.1.1 in
    let last = split-first c [] rest.0 t rest.1.1.1 in
    let there : last.0 ≡ t = cc in
    (rest.0, (rest.1.0, (omega (arith, fresh, rest.1.1.0), subst (λ (x : Shown (List ℕ)). answer c rest.0 ≡ Ok x) there last.1.0)))

pub all-cancelled : CancelTakesBackAllEdits
all-cancelled es s t h = let g = whole-group es Cancel s t h in cancel-shows s.text g.0 t g.1.0 g.1.1.1

pub all-undone : UndoTakesBackAllEdits
all-undone es s t u some h undone =
    let g = whole-group es End s t h in
    group-undone s.text g.0 t u g.1.0 (omega (arith, some, g.1.1.0)) g.1.1.1 undone

all-depth-kept : (cs : List (Command Edit)) (s t : Shown (List ℕ)) → answers cs s ≡ Ok t → t.depth ≡ s.depth
all-depth-kept [] s t h = let same : s ≡ t = cc in ap (λ (x : Shown (List ℕ)). x.depth) (sym same)
all-depth-kept (c ∷ cs) s t h =
    let first = split-first c cs s t h in
    all-depth-kept cs first.0 t first.1.1 ∙ depth-kept edited c s first.0 first.1.0

pub group-undoable : AGroupCanBeUndone
group-undoable es s t some deep h =
    let g = whole-group es End s t h in
    let kept : g.0.depth ≡ s.depth = sym (depth-kept edited End g.0 t g.1.1.1) ∙ all-depth-kept (as_group es) s t h in
    undoable t s.text g.0.back g.0.depth (omega (arith, kept, deep)) (ended-closed edited s.text g.0 t g.1.0 g.1.1.1)
    (ended-back edited s.text g.0 t g.1.0 (omega (arith, some, g.1.1.0)) g.1.1.1)

pub no-edits-no-step : NoEditsAreNoStep
no-edits-no-step s t h =
    let first = split-first Begin (End ∷ []) s t h in
    let last = split-first End [] first.0 t first.1.1 in
    let there : last.0 ≡ t = cc in
    let ended = nothing-ended edited s.text first.0 t (begin-opens s first.0 first.1.0) (begins-fresh s first.0 first.1.0)
    (subst (λ (x : Shown (List ℕ)). answer End first.0 ≡ Ok x) there last.1.0) in
    let begun = begun-same edited s first.0 first.1.0 in
    (ended.0 ∙ begun.0, ended.1 ∙ begun.1, ended.2 ∙ begun.2)
