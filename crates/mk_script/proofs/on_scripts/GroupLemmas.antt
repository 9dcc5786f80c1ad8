-- What lines say, put together as steps.
use Rattle.std.proofs.Common.{◌≡◌, ℕ, false, List, [], ◌∷◌, ◌++◌, refl, sym, ap, ◌∙◌, inl, inr, map, append_assoc}
use Rattle.std.specs.Prelude.{◌⊎◌, Option, Some, None}
use Rattle.std.proofs.lemmas.List.{append-nil}
use Rattle.std.proofs.lemmas.Option.{some_pair_parts}
use Rattle.mk_edit_language.specs.Edits.{Edit}
use Rattle.mk_history.specs.Machine.{Command, Apply, Undo, Redo, Begin, End, Cancel}
use Rattle.mk_script.specs.Lines.{Saying, Plain, Try, Or}
use Rattle.mk_script.specs.Scripts.{EditAt, Step, Alone, Tried, Chain, SayingAt, or_at, sayings_of, sayings, chain_of}
use Rattle.mk_script.specs.ReaderAnswers.{takes_alternative, SayMore}

-- ---- grouping

-- the alternatives that some sayings begin with, and the steps behind them
abbrev Group : Type 0
Group = List EditAt × List Step

-- a step in front of steps before which no alternative stands
abbrev only : Step → Group → Option Group
only step ([], steps) = Some ([], step ∷ steps)
only step (e ∷ others, steps) = None

abbrev put : (line : ℕ) → Saying → Group → Option Group
put n (Plain (Apply e)) g = Some ([], chain_of (record { line = n; edit = e }) g.0 ∷ g.1)
put n (Plain c) g = only (Alone (record { line = n; command = c })) g
put n (Try e) g = only (Tried (record { line = n; edit = e })) g
put n (Or e) g = Some (record { line = n; edit = e } ∷ g.0, g.1)

abbrev put_some : SayingAt → Option Group → Option Group
put_some x None = None
put_some x (Some g) = put x.line x.saying g

abbrev group : List SayingAt → Option Group
group [] = Some ([], [])
group (x ∷ said) = put_some x (group said)

-- the steps of what is said, if they are steps
abbrev all_steps : Option Group → Option (List Step)
all_steps None = None
all_steps (Some ([], steps)) = Some steps
all_steps (Some (e ∷ others, steps)) = None

abbrev pub steps_said : List SayingAt → Option (List Step)
steps_said said = all_steps (group said)

-- ---- steps are put together as they were

group-ors : (others : List EditAt) (said : List SayingAt) (g : Group) → group said ≡ Some g → group (map or_at others ++ said) ≡ Some (others ++ g.0, g.1)
group-ors [] said g h = h
group-ors (e ∷ others) said g h = ap (λ o. put_some (or_at e) o) (group-ors others said g h)

group-one : (step : Step) (said : List SayingAt) (steps : List Step) → group said ≡ Some ([], steps) → group (sayings_of step ++ said) ≡ Some ([], step ∷ steps)
group-one (Alone c) said steps h = go c.command refl
  where
    go : (d : Command Edit) → c.command ≡ d → group (sayings_of (Alone (record { line = c.line; command = d })) ++ said) ≡ Some ([], Alone (record { line = c.line; command = d }) ∷ steps)
    go (Apply e) k = ap (λ o. put_some (record { line = c.line; saying = Plain (Apply e) }) o) h
    go Undo k = ap (λ o. put_some (record { line = c.line; saying = Plain Undo }) o) h
    go Redo k = ap (λ o. put_some (record { line = c.line; saying = Plain Redo }) o) h
    go Begin k = ap (λ o. put_some (record { line = c.line; saying = Plain Begin }) o) h
    go End k = ap (λ o. put_some (record { line = c.line; saying = Plain End }) o) h
    go Cancel k = ap (λ o. put_some (record { line = c.line; saying = Plain Cancel }) o) h
group-one (Tried e) said steps h = ap (λ o. put_some (record { line = e.line; saying = Try e.edit }) o) h
group-one (Chain first second others) said steps h =
    ap (λ o. put_some (record { line = first.line; saying = Plain (Apply first.edit) }) (put_some (or_at second) o)) (group-ors others said ([], steps) h)
    ∙ ap (λ os. Some ([], Chain first second os ∷ steps)) (append-nil others)

group-steps : (steps : List Step) → group (sayings steps) ≡ Some ([], steps)
group-steps [] = refl
group-steps (step ∷ steps) = group-one step (sayings steps) steps (group-steps steps)

pub steps-said : (steps : List Step) → steps_said (sayings steps) ≡ Some steps
steps-said steps = ap (λ o. all_steps o) (group-steps steps)

-- steps that say the same are the same
pub sayings-one : (steps others : List Step) → sayings steps ≡ sayings others → steps ≡ others
sayings-one steps others h =
    let same : Some steps ≡ Some others = sym (steps-said steps) ∙ (ap (λ s. steps_said s) h ∙ steps-said others) in
    cc

-- ---- and what is put together was said

-- what a group says
abbrev said_by : Group → List SayingAt
said_by g = map or_at g.0 ++ sayings g.1

chain-said : (first : EditAt) (others : List EditAt) → sayings_of (chain_of first others) ≡ record { line = first.line; saying = Plain (Apply first.edit) } ∷ map or_at others
chain-said first [] = refl
chain-said first (second ∷ others) = refl

only-said : (x : SayingAt) (step : Step) (g r : Group) → sayings_of step ≡ x ∷ [] → only step g ≡ Some r → said_by r ≡ x ∷ said_by g
only-said x step ([], steps) r is h = let parts = some_pair_parts [] r.0 (step ∷ steps) r.1 h in rw (sym parts.0, sym parts.1) (ap (λ s. s ++ sayings steps) is)
only-said x step (e ∷ others, steps) r is h = absurd (cc)

put-said : (n : ℕ) (s : Saying) (g r : Group) → put n s g ≡ Some r → said_by r ≡ record { line = n; saying = s } ∷ said_by g
put-said n (Plain (Apply e)) g r h =
    let parts = some_pair_parts [] r.0 (chain_of (record { line = n; edit = e }) g.0 ∷ g.1) r.1 h in
    rw (sym parts.0, sym parts.1) (ap (λ s. s ++ sayings g.1) (chain-said (record { line = n; edit = e }) g.0))
put-said n (Plain Undo) g r h = only-said (record { line = n; saying = Plain Undo }) (Alone (record { line = n; command = Undo })) g r refl h
put-said n (Plain Redo) g r h = only-said (record { line = n; saying = Plain Redo }) (Alone (record { line = n; command = Redo })) g r refl h
put-said n (Plain Begin) g r h = only-said (record { line = n; saying = Plain Begin }) (Alone (record { line = n; command = Begin })) g r refl h
put-said n (Plain End) g r h = only-said (record { line = n; saying = Plain End }) (Alone (record { line = n; command = End })) g r refl h
put-said n (Plain Cancel) g r h = only-said (record { line = n; saying = Plain Cancel }) (Alone (record { line = n; command = Cancel })) g r refl h
put-said n (Try e) g r h = only-said (record { line = n; saying = Try e }) (Tried (record { line = n; edit = e })) g r refl h
put-said n (Or e) g r h =
    let parts = some_pair_parts (record { line = n; edit = e } ∷ g.0) r.0 g.1 r.1 h in
    rw (sym parts.0, sym parts.1) refl

group-said : (said : List SayingAt) (g : Group) → group said ≡ Some g → said_by g ≡ said
group-said [] g h = let parts = some_pair_parts [] g.0 [] g.1 h in rw (sym parts.0, sym parts.1) refl
group-said (x ∷ said) g h = go (group said) refl (λ r k. group-said said r k) h
  where
    go : (o : Option Group) → group said ≡ o → ((r : Group) → group said ≡ Some r → said_by r ≡ said) → put_some x o ≡ Some g → said_by g ≡ x ∷ said
    go None k others m = absurd (cc)
    go (Some r) k others m = put-said x.line x.saying r g m ∙ ap (λ s. x ∷ s) (others r k)

pub said-steps : (said : List SayingAt) (steps : List Step) → steps_said said ≡ Some steps → sayings steps ≡ said
said-steps said steps h = go (group said) refl h
  where
    go : (o : Option Group) → group said ≡ o → all_steps o ≡ Some steps → sayings steps ≡ said
    go None k m = absurd (cc)
    go (Some ([], found)) k m = let same : found ≡ steps = cc in ap (λ s. sayings s) (sym same) ∙ group-said said ([], found) k
    go (Some (e ∷ others, found)) k m = absurd (cc)

-- steps say one thing more, or none do
pub more-or_not : (steps : List Step) (x : SayingAt) → ((others : List Step) × SayMore steps x others) ⊎ ((others : List Step) → SayMore steps x others → ⊥)
more-or_not steps x = go (steps_said (sayings steps ++ x ∷ [])) refl
  where
    go : (o : Option (List Step)) → steps_said (sayings steps ++ x ∷ []) ≡ o → ((others : List Step) × SayMore steps x others) ⊎ ((others : List Step) → SayMore steps x others → ⊥)
    go (Some others) h = inl (others, said-steps (sayings steps ++ x ∷ []) others h)
    go None h = inr (λ others more. absurd (let some : steps_said (sayings steps ++ x ∷ []) ≡ Some others = ap (λ s. steps_said s) (sym more) ∙ steps-said others in cc))

-- ---- the first part of what steps say

-- some alternatives at the front of a longer list stand at the front of its first part too
FrontOf : Option Group → Group → Type 0
FrontOf None g = ⊥
FrontOf (Some q) g = g.0 ≡ [] → q.0 ≡ []

only-front : (step : Step) (q g r : Group) → (g.0 ≡ [] → q.0 ≡ []) → only step g ≡ Some r → FrontOf (only step q) r
unfolding FrontOf
only-front step ([], qs) g r f h = λ none. refl
only-front step (e ∷ others, qs) ([], steps) r f h = let no = f refl in absurd (cc)
only-front step (e ∷ others, qs) (d ∷ more, steps) r f h = absurd (cc)

put-front : (n : ℕ) (s : Saying) (q g r : Group) → (g.0 ≡ [] → q.0 ≡ []) → put n s g ≡ Some r → FrontOf (put n s q) r
unfolding FrontOf
put-front n (Plain (Apply e)) q g r f h = λ none. refl
put-front n (Plain Undo) q g r f h = only-front (Alone (record { line = n; command = Undo })) q g r f h
put-front n (Plain Redo) q g r f h = only-front (Alone (record { line = n; command = Redo })) q g r f h
put-front n (Plain Begin) q g r f h = only-front (Alone (record { line = n; command = Begin })) q g r f h
put-front n (Plain End) q g r f h = only-front (Alone (record { line = n; command = End })) q g r f h
put-front n (Plain Cancel) q g r f h = only-front (Alone (record { line = n; command = Cancel })) q g r f h
put-front n (Try e) q g r f h = only-front (Tried (record { line = n; edit = e })) q g r f h
put-front n (Or e) q g r f h = λ none. absurd (let parts = some_pair_parts (record { line = n; edit = e } ∷ g.0) r.0 g.1 r.1 h in let first = parts.0 in cc)

group-front : (said later : List SayingAt) (g : Group) → group (said ++ later) ≡ Some g → FrontOf (group said) g
unfolding FrontOf
group-front [] later g h = λ none. refl
group-front (x ∷ said) later g h = go (group (said ++ later)) refl (λ r k. group-front said later r k) h
  where
    both : (r : Group) (o : Option Group) → FrontOf o r → put x.line x.saying r ≡ Some g → FrontOf (put_some x o) g
    both r None f m = absurd f
    both r (Some q) f m = put-front x.line x.saying q r g f m

    go : (o : Option Group) → group (said ++ later) ≡ o → ((r : Group) → group (said ++ later) ≡ Some r → FrontOf (group said) r) → put_some x o ≡ Some g
        → FrontOf (put_some x (group said)) g
    go None k others m = absurd (cc)
    go (Some r) k others m = both r (group said) (others r k) m

-- the first things that steps say are what some steps say
pub first-steps : (steps : List Step) (said later : List SayingAt) → sayings steps ≡ said ++ later → (first : List Step) × (sayings first ≡ said)
unfolding FrontOf
first-steps steps said later h =
    go (group said) refl (group-front said later ([], steps) (ap (λ s. group s) (sym h) ∙ group-steps steps))
  where
    go : (o : Option Group) → group said ≡ o → FrontOf o ([], steps) → (first : List Step) × (sayings first ≡ said)
    go None k f = absurd f
    go (Some (alternatives, first)) k f = (first, ap (λ os. map or_at os ++ sayings first) (sym (f refl)) ∙ group-said said (alternatives, first) k)

-- ---- where no alternative may stand

group-none : (said later : List SayingAt) → group later ≡ None → group (said ++ later) ≡ None
group-none [] later h = h
group-none (x ∷ said) later h = ap (λ o. put_some x o) (group-none said later h)

unmade : (said : List SayingAt) → group said ≡ None → (steps : List Step) → sayings steps ≡ said → ⊥
unmade said h steps e = let some = group-steps steps in let none = ap (λ s. group s) e ∙ h in cc

-- none may stand first
pub none-first : (n : ℕ) (e : Edit) (others : List Step) → SayMore [] (record { line = n; saying = Or e }) others → ⊥
none-first n e others h = let some = steps-said others in let none = ap (λ s. steps_said s) h in cc

last-none : (step : Step) (n : ℕ) (e : Edit) → takes_alternative step ≡ false → group (sayings_of step ++ record { line = n; saying = Or e } ∷ []) ≡ None
last-none (Alone c) n e h = go c.command h
  where
    go : (d : Command Edit) → takes_alternative (Alone (record { line = c.line; command = d })) ≡ false
        → group (record { line = c.line; saying = Plain d } ∷ record { line = n; saying = Or e } ∷ []) ≡ None
    go (Apply d) k = absurd (cc)
    go Undo k = refl
    go Redo k = refl
    go Begin k = refl
    go End k = refl
    go Cancel k = refl
last-none (Tried d) n e h = refl
last-none (Chain first second others) n e h = absurd (cc)

sayings-append : (steps others : List Step) → sayings (steps ++ others) ≡ sayings steps ++ sayings others
sayings-append [] others = refl
sayings-append (step ∷ steps) others = ap (λ s. sayings_of step ++ s) (sayings-append steps others) ∙ sym (append_assoc (sayings_of step) (sayings steps) (sayings others))

pub sayings-last : (steps : List Step) (step : Step) → sayings (steps ++ step ∷ []) ≡ sayings steps ++ sayings_of step
sayings-last steps step = sayings-append steps (step ∷ []) ∙ ap (λ s. sayings steps ++ s) (append-nil (sayings_of step))

-- and none below a step that takes none
pub none-below : (steps : List Step) (step : Step) (n : ℕ) (e : Edit) → takes_alternative step ≡ false → (others : List Step)
    → SayMore (steps ++ step ∷ []) (record { line = n; saying = Or e }) others → ⊥
none-below steps step n e h others more =
    let x : SayingAt = record { line = n; saying = Or e } in
    unmade (sayings steps ++ (sayings_of step ++ x ∷ [])) (group-none (sayings steps) (sayings_of step ++ x ∷ []) (last-none step n e h)) others
    (more ∙ (ap (λ s. s ++ x ∷ []) (sayings-last steps step) ∙ append_assoc (sayings steps) (sayings_of step) (x ∷ [])))
