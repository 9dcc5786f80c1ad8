-- What the readers of a line answer.
-- Told in docs/ARCHITECTURE.md, "From a script to a text".
use Rattle.std.specs.Prelude.{◌≡◌, ℕ, Bool, true, false, ◌||◌, ◌==◌, List, [], ◌∷◌, ◌++◌, length, Option, Some, None, Result, Ok, Err, Vec, is_some}
use Rattle.mk_edit_language.specs.Edits as edits
use Rattle.mk_history.specs.Machine.{Apply}
use Rattle.mk_script.specs.Lines.{Saying}
use Rattle.mk_script.specs.Scripts.{Step, Alone, Tried, Chain, SayingAt, sayings}
use Rattle.mk_script.specs.FieldReading.{is_blank}
use Rattle.mk_script.specs.declared.fault.LineFault.{LineFault}
use Rattle.mk_script.specs.declared.fault.LineFault.TheVariants.{NotACommand, NoMemory}
use Rattle.mk_script.specs.declared.edit.Which.{Which}
use Rattle.mk_script.specs.declared.edit.Which.TheVariants as which

-- A reader found in a text what stands there, as `seen` sees it; or it answered an error, and
-- nothing stands there.
abbrev pub IsFound : {V X E : Type 0} → (seen : V → X) → Option X → Result V E → Type 0
IsFound seen stands (Ok v) = stands ≡ Some (seen v)
IsFound seen stands (Err e) = stands ≡ None

abbrev pub is_short : LineFault → Bool
is_short NotACommand = false
is_short NoMemory = true

-- The same for a reader that copies texts: it answers that memory is short only if something stands
-- there.
abbrev pub IsRead : {V X : Type 0} → (seen : V → X) → Option X → Result V LineFault → Type 0
IsRead seen stands (Ok v) = stands ≡ Some (seen v)
IsRead seen stands (Err fault) = is_some stands ≡ is_short fault

-- A reader that takes lines answers what stands there, and leaves the lines behind that; or nothing stands
-- there.
abbrev pub TakesLines : {V X E : Type 0} → (seen : V → X) → Option (X × List (List ℕ)) → Result V E
    → (left : List (List ℕ)) → Type 0
TakesLines seen stands (Ok v) left = stands ≡ Some (seen v, left)
TakesLines seen stands (Err e) left = stands ≡ None

-- Lines were passed up to a word, and these are left; so many stood before the word. Or there is no such
-- line.
abbrev pub Passes : Option (List (List ℕ) × List (List ℕ)) → Option ℕ → (left : List (List ℕ)) → Type 0
Passes stands None left = stands ≡ None
Passes stands (Some count) left =
    (lines : List (List ℕ)) × (stands ≡ Some (lines, left)) × (count ≡ length lines)

-- which assignments an edit means
abbrev pub which_of : Which → edits.Which
which_of which.Every = edits.Every
which_of (which.One nth) = edits.One nth

-- a text that is copied; two; three; two with a number between them
abbrev pub copied : {A : _} → Vec ℕ A → List ℕ
copied text = text.items

abbrev pub copied_two : {A : _} → Vec ℕ A × Vec ℕ A → List ℕ × List ℕ
copied_two p = (p.0.items, p.1.items)

abbrev pub copied_three : {A : _} → Vec ℕ A × Vec ℕ A × Vec ℕ A → List ℕ × List ℕ × List ℕ
copied_three p = (p.0.items, p.1.items, p.2.items)

abbrev pub copied_numbered : {A : _} → Vec ℕ A × ℕ × Vec ℕ A → List ℕ × ℕ × List ℕ
copied_numbered p = (p.0.items, p.1, p.2.items)

-- whether a line begins with `#`
abbrev pub begins_comment : List ℕ → Bool
begins_comment [] = false
begins_comment (b ∷ line) = b == 35

abbrev pub is_skipped : List ℕ → Bool
is_skipped line = begins_comment line || is_blank line

-- ---- steps

-- an `or` may stand below a step: it is that of an edit without `try`
abbrev pub takes_alternative : Step → Bool
takes_alternative (Alone c) = elim c.command [ Apply e ↦ true | other ↦ false ]
takes_alternative (Tried e) = false
takes_alternative (Chain first second others) = true

-- the steps `new` say one thing more than the steps `old`
abbrev pub SayMore : (old : List Step) → SayingAt → (new : List Step) → Type 0
SayMore old x new = sayings new ≡ sayings old ++ x ∷ []

-- What may stand in a line of this number, below the lines of the steps `old`, was added to them; or
-- it was not: nothing may stand there, or memory was short for it.
abbrev pub Adds : (old : List Step) → (number : ℕ) → Option Saying → (new : List Step)
    → Result (Unit {0}) LineFault → Type 0
Adds old n stands new (Ok u) =
    (x : Saying) × (stands ≡ Some x) × SayMore old (record { line = n; saying = x }) new
Adds old n stands new (Err NotACommand) =
    (x : Saying) → stands ≡ Some x → (others : List Step)
    → SayMore old (record { line = n; saying = x }) others → ⊥
Adds old n stands new (Err NoMemory) =
    (x : Saying) × (stands ≡ Some x)
    × ((others : List Step) × SayMore old (record { line = n; saying = x }) others)

-- The same of a line below a step, of which it makes a longer one; above that step these stand.
abbrev pub AddsBelow : {X : Type 0} → (seen : X → Step) → (above : List Step) → (last : Step)
    → (number : ℕ) → Option Saying → Result X LineFault → Type 0
AddsBelow seen above last n stands (Ok step) =
    (x : Saying) × (stands ≡ Some x)
    × SayMore (above ++ last ∷ []) (record { line = n; saying = x }) (above ++ seen step ∷ [])
AddsBelow seen above last n stands (Err fault) = Adds (above ++ last ∷ []) n stands [] (Err fault)

-- The same of a line and the lines below it, of which these are left.
abbrev pub AddsLine : (old : List Step) → (number : ℕ) → Option (Saying × List (List ℕ))
    → (new : List Step) → Result (Unit {0}) LineFault → (left : List (List ℕ)) → Type 0
AddsLine old n stands new (Ok u) left =
    (x : Saying) × (stands ≡ Some (x, left))
    × SayMore old (record { line = n; saying = x }) new
AddsLine old n stands new (Err NotACommand) left =
    (x : Saying) (rest : List (List ℕ)) → stands ≡ Some (x, rest) → (others : List Step)
    → SayMore old (record { line = n; saying = x }) others → ⊥
AddsLine old n stands new (Err NoMemory) left =
    (x : Saying) × (stands ≡ Some (x, left))
    × ((others : List Step) × SayMore old (record { line = n; saying = x }) others)

-- A value was put behind others, if memory was found for it.
abbrev pub Pushes : {X : Type 0} → (old : List X) → X → (new : List X)
    → Result (Unit {0}) LineFault → Type 0
Pushes old x new (Ok u) = new ≡ old ++ x ∷ []
Pushes old x new (Err fault) = fault ≡ NoMemory
