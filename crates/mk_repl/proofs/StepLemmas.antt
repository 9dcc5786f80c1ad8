-- Lists of no, one and several steps, what is written of nothing, and the reply to a command.
use Rattle.std.proofs.Common.{◌≡◌, refl, sym, ℕ, ◌<◌, ◌≤◌, List, [], ◌∷◌, map, length, get_or, arith, Option, None, Some}
use Rattle.std.specs.Prelude.{Result, Ok, Err, IfErr}
use Rattle.std.specs.Io.KnownBytes.{Appends}
use Rattle.std.proofs.lemmas.List.{append-nil}
use Rattle.mk_history.specs.Shown.{Shown}
use Rattle.mk_repl.specs.Replies.{IsLineExecuted, reply_to}
use Rattle.mk_repl.specs.SessionReplies.{IsHandled}
use Rattle.mk_repl.specs.declared.answer.Executed as o
use Rattle.mk_repl.specs.declared.answer.Executed.TheVariants.{Done, Refused, Nothing, NoCommand}
use Rattle.mk_repl.specs.declared.server.Opened.{Opened}
use Rattle.mk_repl.specs.declared.talk.After.{After}
use Rattle.mk_repl.specs.declared.talk.After.TheVariants.{GoesOn}

pub none : {A B : Type 0} (f : A → B) (xs : List A) → length xs < 1 → map f xs ≡ []
none f [] few = refl
none f (x ∷ xs) few = absurd (omega (arith, few))

pub one : {A B : Type 0} (f : A → B) (xs : List A) (d : A) → 1 ≤ length xs → length xs < 2 → map f xs ≡ f (get_or xs 0 d) ∷ []
one f [] d some few = absurd (omega (arith, some))
one f (x ∷ []) d some few = refl
one f (x ∷ y ∷ xs) d some few = absurd (omega (arith, few))

pub several : {A B : Type 0} (f : A → B) (xs : List A) → 2 ≤ length xs → (a b : B) × (rest : List B) × (map f xs ≡ a ∷ b ∷ rest)
several f [] some = absurd (omega (arith, some))
several f (x ∷ []) some = absurd (omega (arith, some))
several f (x ∷ y ∷ xs) some = (f x, f y, map f xs, refl)

-- nothing is put behind known bytes
pub Appends-nothing : (x : Option (List ℕ)) → Appends x x []
Appends-nothing None = tt
Appends-nothing (Some xs) = sym (append-nil xs)

-- a text is a command of which this came
pub command-handled : (came : o.Executed) (text : List ℕ) (opened : Opened) (old new : Shown (List ℕ)) (reply : List ℕ) (after : After) → (came ≡ NoCommand → ⊥)
    → IsLineExecuted text old new came → reply ≡ reply_to came → after ≡ GoesOn → IsHandled text opened old reply after new
command-handled Done text opened old new reply after some h is goes = (Done, new, h, (is, goes, refl))
command-handled (Refused refusal) text opened old new reply after some h is goes = (Refused refusal, new, h, (is, goes, refl))
command-handled Nothing text opened old new reply after some h is goes = (Nothing, new, h, (is, goes, refl))
command-handled NoCommand text opened old new reply after some h is goes = absurd (some refl)

pub if-any-err : {A E : Type 0} {P : Type 0} (r : Result A E) → P → IfErr r (λ _. P)
if-any-err (Ok a) p = tt
if-any-err (Err e) p = p
