-- What the calls of a session do, in bytes: each call alone, and calls that are taken back.
use Rattle.std.proofs.Common.{◌≡◌, refl, sym, ap, ◌∙◌, subst, arith, ℕ, zero, suc, ◌+◌, ◌≤◌, List, [], ◌∷◌, map, filter, length, take, Bool, true, false, Option, Some, None}
use Rattle.std.specs.Prelude.{Result, Ok, Err, OnOk, OnErr, IfErr, is_ok}
use Rattle.mk_lines.specs.LogicalLines.{logical_lines}
use Rattle.mk_lines.specs.Pieces.{Replacement}
use Rattle.mk_edit_language.specs.Edits as edits
use Rattle.mk_edit_language.specs.EditViews.{place_of, value_change_of, edit_of}
use Rattle.mk_edit_language.specs.Refusals.{spans, text_after}
use Rattle.mk_edit_language.specs.declared.edit.LineChange.TheVariants as line
use Rattle.mk_edit_language.specs.declared.edit.Edit.{Edit}
use Rattle.mk_edit_language.specs.declared.edit.Edit.TheVariants as edit
use Rattle.mk_edit_language.specs.declared.command.Command.{Command}
use Rattle.mk_edit_language.specs.declared.command.Command.TheVariants as command
use Rattle.mk_edit_language.specs.declared.refusal.Refusal.{Refusal}
use Rattle.mk_history.specs.Machine as machine
use Rattle.mk_history.specs.Shown.{Shown, shown_opened, shown_edited, shown_ended, shown_back, shown_forward}
use Rattle.mk_session.specs.Sessions.{answer, edited, text_with, IsRefusedBy}
use Rattle.mk_session.specs.Statement.{Does, IsCall, AreCalls, AreTakenBack}
use Rattle.mk_session.proofs.on_sessions.StepLemmas.{edited-ok}
use Rattle.mk_session.proofs.on_statement.ValuesStated.{value-stated, values-stated, unset-stated, assign-stated}
use Rattle.mk_session.proofs.on_statement.LinesStated.{line-stated}
use Rattle.mk_session.proofs.on_statement.CommentsStated.{comment_out-stated, uncomment-stated}
use Rattle.mk_session.proofs.on_statement.RulesStated.{prereqs-stated, new_recipe-stated, set_recipe-stated, no_recipe-stated}
use Rattle.mk_session.proofs.on_statement.NewRulesStated.{rule-stated}
use Rattle.mk_session.proofs.on_statement.RuleGoesStated.{no_rule-stated}
use Rattle.mk_session.proofs.on_statement.RenamesStated.{rename-stated}
use Rattle.mk_session.proofs.on_statement.EachStated.{each-stated}
use Rattle.mk_session.proofs.on_statement.ExchangesStated.{exchange-stated}

-- ---- an edit

edit-stated : {A : _} (e : Edit A) (t : List ℕ) (rs : List Replacement) → spans t (edit_of e) ≡ Ok rs → Does e (logical_lines t) (logical_lines (text_after t (edit_of e)))
edit-stated (edit.SetValue k n v) t rs h = value-stated k n.items (edits.Set v.items) t rs h
edit-stated (edit.SetValueIf k n o v) t rs h = value-stated k n.items (edits.SetIf o.items v.items) t rs h
edit-stated (edit.AppendValue k n v) t rs h = value-stated k n.items (edits.Append v.items) t rs h
edit-stated (edit.AddWord k n w) t rs h = value-stated k n.items (edits.Add w.items) t rs h
edit-stated (edit.RemoveWord k n w) t rs h = value-stated k n.items (edits.Remove w.items) t rs h
edit-stated (edit.ChangeValues n c) t rs h = values-stated n.items (value_change_of c) t rs h
edit-stated (edit.ChangeLine k n (line.Prepend v)) t rs h = line-stated k n.items (edits.Prepend v.items) t rs h
edit-stated (edit.ChangeLine k n (line.ReplaceWord w v)) t rs h = line-stated k n.items (edits.ReplaceWord w.items v.items) t rs h
edit-stated (edit.ChangeLine k n (line.InsertWord s w v)) t rs h = line-stated k n.items (edits.InsertWord s w.items v.items) t rs h
edit-stated (edit.ChangeLine k n (line.Substitute f u)) t rs h = line-stated k n.items (edits.Substitute f.items u.items) t rs h
edit-stated (edit.ChangeLine k n (line.SetOperator f)) t rs h = line-stated k n.items (edits.SetOperator f) t rs h
edit-stated (edit.AddAssign p n f v) t rs h = assign-stated (place_of p) n.items f v.items t rs h
edit-stated (edit.CommentOut k n) t rs h = comment_out-stated k n.items t rs h
edit-stated (edit.Uncomment k n) t rs h = uncomment-stated k n.items t rs h
edit-stated (edit.RemoveAssign k n) t rs h = unset-stated k n.items t rs h
edit-stated (edit.AddRule p gs s ws) t rs h = rule-stated (place_of p) gs.items s ws.items t rs h
edit-stated (edit.RemoveRule k g) t rs h = no_rule-stated k g.items t rs h
edit-stated (edit.AddPrereq o k g w) t rs h = prereqs-stated k g.items (edits.AddPrereq o w.items) t rs h
edit-stated (edit.RemovePrereq k g w) t rs h = prereqs-stated k g.items (edits.RemovePrereq w.items) t rs h
edit-stated (edit.ReplacePrereq k g o w) t rs h = prereqs-stated k g.items (edits.ReplacePrereq o.items w.items) t rs h
edit-stated (edit.AddRecipe k g c) t rs h = new_recipe-stated k g.items edits.Last c.items t rs h
edit-stated (edit.SetRecipe k g i c) t rs h = set_recipe-stated k g.items (edits.ByNumber i) c.items t rs h
edit-stated (edit.RemoveRecipe k g i) t rs h = no_recipe-stated k g.items (edits.ByNumber i) t rs h
edit-stated (edit.InsertRecipe k g i c) t rs h = new_recipe-stated k g.items (edits.At i) c.items t rs h
edit-stated (edit.SetRecipeByText k g o c) t rs h = set_recipe-stated k g.items (edits.ByText o.items) c.items t rs h
edit-stated (edit.RemoveRecipeByText k g o) t rs h = no_recipe-stated k g.items (edits.ByText o.items) t rs h
edit-stated (edit.RenameTarget o n) t rs h = rename-stated o.items n.items t rs h
edit-stated (edit.ExchangeLines s b) t rs h = exchange-stated s b t rs h
edit-stated (edit.EachLine e) t rs h = each-stated e t rs h

-- what an edit makes of a text is the text after it
edited-spans : (e : edits.Edit) (t new : List ℕ) → edited e t ≡ Ok new → (rs : List Replacement) × (spans t e ≡ Ok rs) × (text_after t e ≡ new)
edited-spans e t new h = go (spans t e) refl
  where
    go : (r : Result (List Replacement) Refusal) → spans t e ≡ r → (rs : List Replacement) × (spans t e ≡ Ok rs) × (text_after t e ≡ new)
    go (Ok rs) i = (rs, i, let same : Ok (text_after t e) ≡ Ok new = sym (edited-ok e t rs i) ∙ h in cc)
    go (Err r) i = absurd (let no : Err r ≡ Ok new = sym (ap (text_with t) i) ∙ h in cc)

-- the text that is shown after an edit
shows-new : (new : List ℕ) (s : Shown (List ℕ)) → (shown_edited new s).text ≡ new
shows-new new s = go s.begun
  where
    go : (b : Option (List ℕ))
        → (elim b as (λ x. Shown (List ℕ)) [
          | None ↦ record s { text = new; back = take s.depth (s.text ∷ s.back); forward = [] }
          | Some b ↦ record s { text = new; forward = []; pending = s.pending + 1 }
        ]).text ≡ new
    go None = refl
    go (Some b) = refl

apply-done : {A : _} (e : Edit A) (s t : Shown (List ℕ)) → answer (machine.Apply (edit_of e)) s ≡ Ok t → IsCall (command.Apply e) true s t
apply-done e s t h = go (edited (edit_of e) s.text) refl h
  where
    go : (r : Result (List ℕ) Refusal) → edited (edit_of e) s.text ≡ r
        → elim r as (λ x. Result (Shown (List ℕ)) (machine.Refusal Refusal)) [ Ok new ↦ Ok (shown_edited new s) | Err r ↦ Err (machine.EditRefused r) ] ≡ Ok t
        → IsCall (command.Apply e) true s t
    go (Ok new) i k =
        let made : shown_edited new s ≡ t = cc in
        let text : t.text ≡ new = ap (λ (z : Shown (List ℕ)). z.text) (sym made) ∙ shows-new new s in
        let R = edited-spans (edit_of e) s.text new i in (
          subst (λ z. Does e (logical_lines s.text) (logical_lines z)) (R.2 ∙ sym text) (edit-stated e s.text R.0 R.1),
          sym made ∙ ap (λ z. shown_edited z s) (sym text),
        )
    go (Err r) i k = absurd (cc)

-- ---- the other calls

undo-done : (A : _) (s t : Shown (List ℕ)) → answer machine.Undo s ≡ Ok t → IsCall {A = A} command.Undo true s t
undo-done A s t h = go s.begun s.back refl refl h
  where
    go : (g : Option (List ℕ)) (b : List (List ℕ)) → s.begun ≡ g → s.back ≡ b
        → elim g as (λ x. Result (Shown (List ℕ)) (machine.Refusal Refusal)) [ Some b ↦ Err machine.GroupOpen | None ↦ shown_back s b ] ≡ Ok t
        → (s.begun ≡ None) × (s.back ≡ t.text ∷ t.back) × (t ≡ record s { text = t.text; back = t.back; forward = s.text ∷ s.forward })
    go (Some x) b i j k = absurd (cc)
    go None [] i j k = absurd (cc)
    go None (x ∷ xs) i j k =
        let made : record s { text = x; back = xs; forward = s.text ∷ s.forward } ≡ t = cc in
        (i, j ∙ ap (λ (z : Shown (List ℕ)). z.text ∷ z.back) made, sym made ∙ ap (λ (z : Shown (List ℕ)). record s { text = z.text; back = z.back; forward = s.text ∷ s.forward }) made)

redo-done : (A : _) (s t : Shown (List ℕ)) → answer machine.Redo s ≡ Ok t → IsCall {A = A} command.Redo true s t
redo-done A s t h = go s.begun s.forward refl refl h
  where
    go : (g : Option (List ℕ)) (f : List (List ℕ)) → s.begun ≡ g → s.forward ≡ f
        → elim g as (λ x. Result (Shown (List ℕ)) (machine.Refusal Refusal)) [ Some b ↦ Err machine.GroupOpen | None ↦ shown_forward s f ] ≡ Ok t
        → (s.begun ≡ None) × (s.forward ≡ t.text ∷ t.forward) × (t ≡ record s { text = t.text; back = s.text ∷ s.back; forward = t.forward })
    go (Some x) f i j k = absurd (cc)
    go None [] i j k = absurd (cc)
    go None (x ∷ xs) i j k =
        let made : record s { text = x; back = s.text ∷ s.back; forward = xs } ≡ t = cc in
        (i, j ∙ ap (λ (z : Shown (List ℕ)). z.text ∷ z.forward) made, sym made ∙ ap (λ (z : Shown (List ℕ)). record s { text = z.text; back = s.text ∷ s.back; forward = z.forward }) made)

begin-done : (s t : Shown (List ℕ)) → answer machine.Begin s ≡ Ok t → (s.begun ≡ None) × (t ≡ record s { begun = Some s.text; pending = 0 })
begin-done s t h = go s.begun refl h
  where
    go : (g : Option (List ℕ)) → s.begun ≡ g
        → elim g as (λ x. Result (Shown (List ℕ)) (machine.Refusal Refusal)) [ Some b ↦ Err machine.GroupOpen | None ↦ Ok (record s { begun = Some s.text; pending = 0 }) ] ≡ Ok t
        → (s.begun ≡ None) × (t ≡ record s { begun = Some s.text; pending = 0 })
    go (Some x) i k = absurd (cc)
    go None i k = (i, cc)

end-done : (s t : Shown (List ℕ)) → answer machine.End s ≡ Ok t → (b : List ℕ) × (s.begun ≡ Some b) × (t ≡ shown_ended b s.pending s)
end-done s t h = go s.begun refl h
  where
    go : (g : Option (List ℕ)) → s.begun ≡ g
        → elim g as (λ x. Result (Shown (List ℕ)) (machine.Refusal Refusal)) [ Some b ↦ Ok (shown_ended b s.pending s) | None ↦ Err machine.NoGroup ] ≡ Ok t
        → (b : List ℕ) × (s.begun ≡ Some b) × (t ≡ shown_ended b s.pending s)
    go (Some x) i k = (x, i, cc)
    go None i k = absurd (cc)

cancel-done : (s t : Shown (List ℕ)) → answer machine.Cancel s ≡ Ok t → (b : List ℕ) × (s.begun ≡ Some b) × (t ≡ record s { text = b; begun = None; pending = 0 })
cancel-done s t h = go s.begun refl h
  where
    go : (g : Option (List ℕ)) → s.begun ≡ g
        → elim g as (λ x. Result (Shown (List ℕ)) (machine.Refusal Refusal)) [ Some b ↦ Ok (record s { text = b; begun = None; pending = 0 }) | None ↦ Err machine.NoGroup ] ≡ Ok t
        → (b : List ℕ) × (s.begun ≡ Some b) × (t ≡ record s { text = b; begun = None; pending = 0 })
    go (Some x) i k = (x, i, cc)
    go None i k = absurd (cc)

-- an undo that is refused outside a group finds nothing to undo
undo-refused : (s : Shown (List ℕ)) (r : Refusal) → IsRefusedBy (answer machine.Undo s) r → s.begun ≡ None → s.back ≡ []
undo-refused s r h i = go s.back refl (subst (λ g. IsRefusedBy (elim g as (λ x. Result (Shown (List ℕ)) (machine.Refusal Refusal)) [ Some b ↦ Err machine.GroupOpen | None ↦ shown_back s s.back ]) r) i h)
  where
    go : (b : List (List ℕ)) → s.back ≡ b → IsRefusedBy (shown_back s b) r → s.back ≡ []
    go [] j k = j
    go (x ∷ xs) j k = absurd k

-- ---- each call, by what it gave back

pub apply-stated : {A : _} (e : Edit A) (result : Result (Unit {0}) Refusal) (s t : Shown (List ℕ)) → OnOk result (answer (machine.Apply (edit_of e)) s ≡ Ok t) → OnErr result (t ≡ s) → IsCall (command.Apply e) (is_ok result) s t
apply-stated e (Ok u) s t h k = apply-done e s t h
apply-stated e (Err r) s t h k = k

pub undo-stated : {A : _} (c : Command A) (result : Result (Unit {0}) Refusal) (s t : Shown (List ℕ)) → c ≡ command.Undo → OnOk result (answer machine.Undo s ≡ Ok t) → IfErr result (λ r. IsRefusedBy (answer machine.Undo s) r) → OnErr result (t ≡ s)
    → IsCall c (is_ok result) s t
undo-stated {A} c (Ok u) s t e h f k = subst (λ z. IsCall z true s t) (sym e) (undo-done A s t h)
undo-stated c (Err r) s t e h f k = subst (λ z. IsCall z false s t) (sym e) (k, undo-refused s r f)

pub redo-stated : {A : _} (c : Command A) (result : Result (Unit {0}) Refusal) (s t : Shown (List ℕ)) → c ≡ command.Redo → OnOk result (answer machine.Redo s ≡ Ok t) → OnErr result (t ≡ s) → IsCall c (is_ok result) s t
redo-stated {A} c (Ok u) s t e h k = subst (λ z. IsCall z true s t) (sym e) (redo-done A s t h)
redo-stated c (Err r) s t e h k = subst (λ z. IsCall z false s t) (sym e) k

pub begin-stated : {A : _} (c : Command A) (result : Result (Unit {0}) Refusal) (s t : Shown (List ℕ)) → c ≡ command.Begin → OnOk result (answer machine.Begin s ≡ Ok t) → OnErr result (t ≡ s) → IsCall c (is_ok result) s t
begin-stated c (Ok u) s t e h k = subst (λ z. IsCall z true s t) (sym e) (begin-done s t h)
begin-stated c (Err r) s t e h k = subst (λ z. IsCall z false s t) (sym e) k

pub end-stated : {A : _} (c : Command A) (result : Result (Unit {0}) Refusal) (s t : Shown (List ℕ)) → c ≡ command.End → OnOk result (answer machine.End s ≡ Ok t) → OnErr result (t ≡ s) → IsCall c (is_ok result) s t
end-stated c (Ok u) s t e h k = subst (λ z. IsCall z true s t) (sym e) (end-done s t h)
end-stated c (Err r) s t e h k = subst (λ z. IsCall z false s t) (sym e) k

pub cancel-stated : {A : _} (c : Command A) (result : Result (Unit {0}) Refusal) (s t : Shown (List ℕ)) → c ≡ command.Cancel → OnOk result (answer machine.Cancel s ≡ Ok t) → OnErr result (t ≡ s) → IsCall c (is_ok result) s t
cancel-stated c (Ok u) s t e h k = subst (λ z. IsCall z true s t) (sym e) (cancel-done s t h)
cancel-stated c (Err r) s t e h k = subst (λ z. IsCall z false s t) (sym e) k

-- ---- calls that are taken back

-- the last of the texts that undoing leads through, from this text on
abbrev last_of : List ℕ → List (List ℕ) → List ℕ
last_of x [] = x
last_of x (y ∷ ys) = last_of y ys

-- the text; if a group is open, the text at its beginning
abbrev settled : Option (List ℕ) → List ℕ → List ℕ
settled None t = t
settled (Some b) t = b

-- What holds after as many calls that are done: the texts that undoing and redoing lead through are no more than these calls, undoing leads to the
-- first text, and a group without edits has the text of its beginning.
record Holds (first : List ℕ) (depth calls : ℕ) (s : Shown (List ℕ)) : Type 0 where
  depth_is : s.depth ≡ depth
  few : (length s.back + length s.forward) + s.pending ≤ calls
  leads : last_of (settled s.begun s.text) s.back ≡ first
  fresh : (b : List ℕ) → s.begun ≡ Some b → s.pending ≡ 0 → s.text ≡ b

take-whole : (n : ℕ) (xs : List (List ℕ)) → length xs ≤ n → take n xs ≡ xs
take-whole zero [] h = refl
take-whole zero (x ∷ xs) h = absurd (omega (arith, h))
take-whole (suc n) [] h = refl
take-whole (suc n) (x ∷ xs) h = ap (λ z. x ∷ z) (take-whole n xs (omega (arith, h)))

no-group : (g : Option (List ℕ)) (b : List ℕ) → g ≡ None → g ≡ Some b → ⊥
no-group g b h k = let no : None ≡ Some b = sym h ∙ k in cc

module _ (f : List ℕ) (d k : ℕ) (some : k + 1 ≤ d) where
  -- one text more before others
  more-back : (s : Shown (List ℕ)) (x : List ℕ) (n : ℕ) → Holds f d k s → length s.back + 1 ≤ k + 1 → take s.depth (x ∷ s.back) ≡ x ∷ s.back
  more-back s x n h l = let e : s.depth ≡ d = h.depth_is in take-whole s.depth (x ∷ s.back) (omega (arith, l, e, some))

  edit-holds : (new : List ℕ) (s : Shown (List ℕ)) → Holds f d k s → Holds f d (k + 1) (shown_edited new s)
  edit-holds new s h = go s.begun refl
    where
      go : (g : Option (List ℕ)) → s.begun ≡ g
          → Holds f d (k + 1) (elim g as (λ x. Shown (List ℕ)) [
            | None ↦ record s { text = new; back = take s.depth (s.text ∷ s.back); forward = [] }
            | Some b ↦ record s { text = new; forward = []; pending = s.pending + 1 }
          ])
      go None i =
          let whole : take s.depth (s.text ∷ s.back) ≡ s.text ∷ s.back = more-back s s.text k h (omega (arith, h.few)) in
          record {
            depth_is = h.depth_is;
            few = let l : length (take s.depth (s.text ∷ s.back)) ≡ length s.back + 1 = ap length whole ∙ omega arith in omega (arith, h.few, l);
            leads = ap (λ z. last_of (settled z new) (take s.depth (s.text ∷ s.back))) i ∙ (ap (last_of new) whole ∙ (ap (λ z. last_of (settled z s.text) s.back) (sym i) ∙ h.leads));
            fresh = λ b e p. absurd (no-group s.begun b i e);
          }
      go (Some b) i = record {
        depth_is = h.depth_is;
        few = omega (arith, h.few);
        leads = ap (λ z. last_of (settled z new) s.back) i ∙ (ap (λ z. last_of (settled z s.text) s.back) (sym i) ∙ h.leads);
        fresh = λ c e p. absurd (omega (arith, p));
      }

  undo-holds : (A : _) (s t : Shown (List ℕ)) → IsCall {A = A} command.Undo true s t → Holds f d k s → Holds f d (k + 1) t
  undo-holds A s t r h =
      let begun : t.begun ≡ None = ap (λ (z : Shown (List ℕ)). z.begun) r.2 ∙ r.0 in
      let pending : t.pending ≡ s.pending = ap (λ (z : Shown (List ℕ)). z.pending) r.2 in
      let forward : length t.forward ≡ length s.forward + 1 = ap (λ (z : Shown (List ℕ)). length z.forward) r.2 ∙ omega arith in
      let back : length s.back ≡ length t.back + 1 = ap length r.1 ∙ omega arith in
      record {
        depth_is = ap (λ (z : Shown (List ℕ)). z.depth) r.2 ∙ h.depth_is;
        few = omega (arith, h.few, pending, forward, back);
        leads = ap (λ z. last_of (settled z t.text) t.back) begun ∙ (ap (last_of s.text) (sym r.1) ∙ (ap (λ z. last_of (settled z s.text) s.back) (sym r.0) ∙ h.leads));
        fresh = λ c e p. absurd (no-group t.begun c begun e);
      }

  redo-holds : (A : _) (s t : Shown (List ℕ)) → IsCall {A = A} command.Redo true s t → Holds f d k s → Holds f d (k + 1) t
  redo-holds A s t r h =
      let begun : t.begun ≡ None = ap (λ (z : Shown (List ℕ)). z.begun) r.2 ∙ r.0 in
      let pending : t.pending ≡ s.pending = ap (λ (z : Shown (List ℕ)). z.pending) r.2 in
      let forward : length s.forward ≡ length t.forward + 1 = ap length r.1 ∙ omega arith in
      let back : length t.back ≡ length s.back + 1 = ap (λ (z : Shown (List ℕ)). length z.back) r.2 ∙ omega arith in
      record {
        depth_is = ap (λ (z : Shown (List ℕ)). z.depth) r.2 ∙ h.depth_is;
        few = omega (arith, h.few, pending, forward, back);
        leads = ap (λ z. last_of (settled z t.text) t.back) begun ∙ (ap (λ (z : Shown (List ℕ)). last_of t.text z.back) r.2 ∙ (ap (λ z. last_of (settled z s.text) s.back) (sym r.0) ∙ h.leads));
        fresh = λ c e p. absurd (no-group t.begun c begun e);
      }

  begin-holds : (s : Shown (List ℕ)) → s.begun ≡ None → Holds f d k s → Holds f d (k + 1) (record s { begun = Some s.text; pending = 0 })
  begin-holds s i h = record {
    depth_is = h.depth_is;
    few = omega (arith, h.few);
    leads = ap (λ z. last_of (settled z s.text) s.back) (sym i) ∙ h.leads;
    fresh = λ b e p. cc;
  }

  end-holds : (s : Shown (List ℕ)) (b : List ℕ) → s.begun ≡ Some b → Holds f d k s → Holds f d (k + 1) (shown_ended b s.pending s)
  end-holds s b i h = go s.pending refl
    where
      at_begin : last_of b s.back ≡ f
      at_begin = ap (λ z. last_of (settled z s.text) s.back) (sym i) ∙ h.leads

      go : (p : ℕ) → s.pending ≡ p → Holds f d (k + 1) (shown_ended b p s)
      go zero e = record {
        depth_is = h.depth_is;
        few = omega (arith, h.few);
        leads = ap (λ z. last_of z s.back) (h.fresh b i e) ∙ (ap (λ z. last_of (settled z s.text) s.back) (sym i) ∙ h.leads);
        fresh = λ c n p. absurd (no-group None c refl n);
      }
      go (suc n) e =
          let whole : take s.depth (b ∷ s.back) ≡ b ∷ s.back = more-back s b k h (omega (arith, h.few, e)) in
          record {
            depth_is = h.depth_is;
            few = let l : length (take s.depth (b ∷ s.back)) ≡ length s.back + 1 = ap length whole ∙ omega arith in omega (arith, h.few, l, e);
            leads = ap (last_of s.text) whole ∙ (ap (λ z. last_of (settled z s.text) s.back) (sym i) ∙ h.leads);
            fresh = λ c n p. absurd (no-group None c refl n);
          }

  cancel-holds : (s : Shown (List ℕ)) (b : List ℕ) → s.begun ≡ Some b → Holds f d k s → Holds f d (k + 1) (record s { text = b; begun = None; pending = 0 })
  cancel-holds s b i h = record {
    depth_is = h.depth_is;
    few = omega (arith, h.few);
    leads = ap (λ z. last_of (settled z s.text) s.back) (sym i) ∙ h.leads;
    fresh = λ c n p. absurd (no-group None c refl n);
  }

  done-holds : {A : _} (c : Command A) (s t : Shown (List ℕ)) → IsCall c true s t → Holds f d k s → Holds f d (k + 1) t
  done-holds (command.Apply e) s t r h = subst (Holds f d (k + 1)) (sym r.1) (edit-holds t.text s h)
  done-holds {A} command.Undo s t r h = undo-holds A s t r h
  done-holds {A} command.Redo s t r h = redo-holds A s t r h
  done-holds command.Begin s t r h = subst (Holds f d (k + 1)) (sym r.1) (begin-holds s r.0 h)
  done-holds command.End s t r h = subst (Holds f d (k + 1)) (sym r.2) (end-holds s r.0 r.1 h)
  done-holds command.Cancel s t r h = subst (Holds f d (k + 1)) (sym r.2) (cancel-holds s r.0 r.1 h)

-- a call that is not done changes nothing
same-shown : {A : _} (c : Command A) (s t : Shown (List ℕ)) → IsCall c false s t → t ≡ s
same-shown (command.Apply e) s t r = r
same-shown command.Undo s t r = r.0
same-shown command.Redo s t r = r
same-shown command.Begin s t r = r
same-shown command.End s t r = r
same-shown command.Cancel s t r = r

calls-hold : {A : _} (f : List ℕ) (d k : ℕ) (calls : List (Command A × Bool)) (s u : Shown (List ℕ)) → k + length (filter (λ c. c.1) calls) ≤ d → AreCalls calls s u → Holds f d k s
    → Holds f d (k + length (filter (λ c. c.1) calls)) u
calls-hold f d k [] s u l r h = subst (λ n. Holds f d n u) (omega arith) (subst (Holds f d k) (sym r) h)
calls-hold f d k ((c, true) ∷ calls) s u l r h =
    let more : k + 1 ≤ d = omega (arith, l) in
    subst (λ n. Holds f d n u) (omega arith) (calls-hold f d (k + 1) calls r.0 u (omega (arith, l)) r.2 (done-holds f d k more c s r.0 r.1 h))
calls-hold f d k ((c, false) ∷ calls) s u l r h = calls-hold f d k calls r.0 u l r.2 (subst (Holds f d k) (sym (same-shown c s r.0 r.1)) h)

-- undos lead to the last of the texts that undoing leads through, if they are enough
undos-lead : (A : _) (dones : List Bool) (s t : Shown (List ℕ)) → s.begun ≡ None → length s.back ≤ length dones → AreCalls {A = A} (map (λ done. (command.Undo, done)) dones) s t → t.text ≡ last_of s.text s.back
undos-lead A [] s t i l r = ap (λ (z : Shown (List ℕ)). z.text) r ∙ go s.back l
  where
    go : (b : List (List ℕ)) → length b ≤ 0 → s.text ≡ last_of s.text b
    go [] e = refl
    go (x ∷ xs) e = absurd (omega (arith, e))
undos-lead A (true ∷ dones) s t i l r =
    let m = r.0 in
    let b = r.1 in
    let back : length s.back ≡ length m.back + 1 = ap length b.1 ∙ omega arith in
    undos-lead A dones m t (ap (λ (z : Shown (List ℕ)). z.begun) b.2 ∙ i) (omega (arith, l, back)) r.2 ∙ ap (last_of s.text) (sym b.1)
undos-lead A (false ∷ dones) s t i l r =
    let m = r.0 in
    let same : m ≡ s = r.1.0 in
    let none : s.back ≡ [] = r.1.1 i in
    let few : length m.back ≤ length dones = let n : length m.back ≡ 0 = ap (λ (z : Shown (List ℕ)). length z.back) same ∙ ap length none in omega (arith, n) in
    undos-lead A dones m t (ap (λ (z : Shown (List ℕ)). z.begun) same ∙ i) few r.2 ∙ ap (λ (z : Shown (List ℕ)). last_of z.text z.back) same

opened-holds : (f : List ℕ) (d : ℕ) → Holds f d 0 (shown_opened d f)
opened-holds f d = record { depth_is = refl; few = omega arith; leads = refl; fresh = λ b e p. absurd (no-group None b refl e) }

pub taken-back : {A : _} (depth : ℕ) (text : List ℕ) (calls : List (Command A × Bool)) → AreTakenBack depth text calls
taken-back {A} depth text calls s t dones r i l n u =
    let h = calls-hold text depth 0 calls (shown_opened depth text) s (omega (arith, l)) r (opened-holds text depth) in
    undos-lead A dones s t i (omega (arith, h.few, n)) u ∙ (ap (λ z. last_of (settled z s.text) s.back) (sym i) ∙ h.leads)
