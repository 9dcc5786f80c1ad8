-- A reader of scripts that computes, for rows: it answers the steps of a script, or the number of the first line that is no
-- command.
use Rattle.std.proofs.Common.{◌≡◌, ℕ, zero, suc, ◌+◌, ◌-◌, ◌≤◌, Bool, true, false, List, [], ◌∷◌, ◌++◌, length, refl, sym, ap, ◌∙◌, subst, if◌then◌else◌, cond, arith, length-append}
use Rattle.std.specs.Prelude.{Option, Some, None, Result, Ok, Err}
use Rattle.mk_edit_language.specs.Edits.{Edit}
use Rattle.mk_history.specs.Machine.{Command}
use Rattle.mk_script.specs.Lines.{script_lines, Saying}
use Rattle.mk_script.specs.Scripts.{EditAt, Step, Alone, Tried, sayings, IsScript, HasNoCommand}
use Rattle.mk_script.specs.BlockReading.{saying}
use Rattle.mk_script.specs.ReaderAnswers.{is_skipped, SayMore}
use Rattle.mk_script.proofs.on_commands.SayingLemmas.{has-saying, saying-written}
use Rattle.mk_script.proofs.on_scripts.LineLemmas.{skipped-is, is-skipped}
use Rattle.mk_script.proofs.on_scripts.GroupLemmas.{steps_said, steps-said, said-steps}
use Rattle.mk_script.proofs.on_scripts.ScriptLemmas.{IsReadSoFar, none-read, skipped-read, said-read, all-read, unread}
use Rattle.mk_script.proofs.on_scripts.OneLemmas.{steps-one, not-both, fault-one}

-- the steps of the lines above, and what a line of this number says; None if they are no steps together
abbrev with_line : (number : ℕ) → List Step → Saying → Option (List Step)
with_line n steps x = steps_said (sayings steps ++ record { line = n; saying = x } ∷ [])

-- the lines after it, if they are steps
abbrev then_read : (number : ℕ) → (others : List Step → Result (List Step) ℕ) → Option (List Step) → Result (List Step) ℕ
then_read n others None = Err n
then_read n others (Some steps) = others steps

-- the lines that are left below it and its blocks, if it says something
abbrev read_left : (number : ℕ) → List Step → (others : List (List ℕ) → List Step → Result (List Step) ℕ) → Option (Saying × List (List ℕ)) → Result (List Step) ℕ
read_left n steps others None = Err n
read_left n steps others (Some p) = then_read n (λ more. others p.1 more) (with_line n steps p.0)

-- `most` is at least the number of the lines
abbrev read_lines : (most : ℕ) → (number : ℕ) → List (List ℕ) → List Step → Result (List Step) ℕ
read_lines most n [] steps = Ok steps
read_lines zero n (line ∷ lines) steps = Err n
read_lines (suc most) n (line ∷ lines) steps =
    if is_skipped line
    then read_lines most (n + 1) lines steps
    else read_left n steps (λ left more. read_lines most (n + 1 + (length lines - length left)) left more) (saying line lines)

-- the steps of a script, or the number of its first line that is no command
abbrev pub read_script : List ℕ → Result (List Step) ℕ
read_script script = read_lines (length (script_lines script)) 1 (script_lines script) []

-- ---- what it answers is so

Means : (script : List ℕ) → Result (List Step) ℕ → Type 0
Means script (Ok steps) = IsScript script steps
Means script (Err number) = HasNoCommand script number

-- what is said, or another saying if nothing is
abbrev said_else : Saying → Option (Saying × List (List ℕ)) → Saying
said_else x None = x
said_else x (Some p) = p.0

one-said : (o : Option (Saying × List (List ℕ))) (x : Saying) (rest : List (List ℕ)) (p : Saying × List (List ℕ)) → o ≡ Some (x, rest) → o ≡ Some p → x ≡ p.0
one-said o x rest p h k = ap (λ q. said_else x q) (sym h ∙ k)

means-so_far : (most : ℕ) (script : List ℕ) (n : ℕ) (rest : List (List ℕ)) (steps : List Step) → length rest ≤ most → IsReadSoFar script n rest steps → Means script (read_lines most (n + 1) rest steps)
unfolding Means
means-so_far most script n [] steps few h = all-read script n [] steps h refl
means-so_far zero script n (line ∷ lines) steps few h = absurd (omega (arith, few))
means-so_far (suc most) script n (line ∷ lines) steps few h = by_line (is_skipped line) refl (λ m left others less k. means-so_far most script m left others less k)
  where
    On : Type 0
    On = (m : ℕ) (left : List (List ℕ)) (others : List Step) → length left ≤ most → IsReadSoFar script m left others → Means script (read_lines most (m + 1) left others)

    by_steps : is_skipped line ≡ false → (p : Saying × List (List ℕ)) → saying line lines ≡ Some p → (o : Option (List Step)) → steps_said (sayings steps ++ record { line = n + 1; saying = p.0 } ∷ []) ≡ o → On
        → Means script (then_read (n + 1) (λ more. read_lines most (n + 1 + 1 + (length lines - length p.1)) p.1 more) o)
    by_steps e p f None g on =
        unread script n line lines steps h (λ s. let t = is-skipped line s in cc)
        (λ block rest y whole says others more.
        let some = ap (λ b. saying line b) whole ∙ has-saying line block rest y says in
        let same = one-said (saying line lines) y rest p some f in
        let all : sayings others ≡ sayings steps ++ record { line = n + 1; saying = p.0 } ∷ [] = subst (λ z. SayMore steps (record { line = n + 1; saying = z }) others) same more in
        let found = ap (λ s. steps_said s) (sym all) ∙ steps-said others in
        cc)
    by_steps e p f (Some others) g on =
        let is = saying-written line lines p.1 p.0 f in
        let total = ap length is.whole ∙ length-append is.block p.1 in
        let m = n + 1 + length is.block in
        let number : m + 1 ≡ n + 1 + 1 + (length lines - length p.1) = omega (arith, total) in
        subst (λ k. Means script (read_lines most k p.1 others)) number
        (on m p.1 others (omega (arith, total, few))
        (said-read script n line is.block p.1 steps others p.0 (subst (λ ls. IsReadSoFar script n (line ∷ ls) steps) is.whole h) is.says
        (said-steps (sayings steps ++ record { line = n + 1; saying = p.0 } ∷ []) others g)))

    by_saying : is_skipped line ≡ false → (o : Option (Saying × List (List ℕ))) → saying line lines ≡ o → On
        → Means script (read_left (n + 1) steps (λ left more. read_lines most (n + 1 + 1 + (length lines - length left)) left more) o)
    by_saying e None f on =
        unread script n line lines steps h (λ s. let t = is-skipped line s in cc)
        (λ block rest x whole says others more. let some = ap (λ b. saying line b) whole ∙ has-saying line block rest x says in cc)
    by_saying e (Some p) f on = by_steps e p f (steps_said (sayings steps ++ record { line = n + 1; saying = p.0 } ∷ [])) refl on

    by_line : (b : Bool) → is_skipped line ≡ b → On
        → Means script
        (cond b (read_lines most (n + 1 + 1) lines steps)
        (read_left (n + 1) steps (λ left more. read_lines most (n + 1 + 1 + (length lines - length left)) left more) (saying line lines)))
    by_line true e on = on (n + 1) lines steps (omega (arith, few)) (skipped-read script n line lines steps h (skipped-is line e))
    by_line false e on = by_saying e (saying line lines) refl on

means : (script : List ℕ) → Means script (read_script script)
means script = means-so_far (length (script_lines script)) script 0 (script_lines script) [] (omega arith) (none-read script (script_lines script) refl)

pub read-steps : (script : List ℕ) (steps : List Step) → read_script script ≡ Ok steps → IsScript script steps
unfolding Means
read-steps script steps h = subst (λ r. Means script r) h (means script)

pub read-no_command : (script : List ℕ) (number : ℕ) → read_script script ≡ Err number → HasNoCommand script number
unfolding Means
read-no_command script number h = subst (λ r. Means script r) h (means script)

-- ---- and what is so it answers

pub steps-read : (script : List ℕ) (steps : List Step) → IsScript script steps → read_script script ≡ Ok steps
steps-read script steps h = go (read_script script) refl
  where
    go : (r : Result (List Step) ℕ) → read_script script ≡ r → read_script script ≡ Ok steps
    go (Ok others) e = e ∙ ap (λ cs. Ok cs) (steps-one script others steps (read-steps script others e) h)
    go (Err number) e = absurd (not-both script steps number h (read-no_command script number e))

pub no_command-read : (script : List ℕ) (number : ℕ) → HasNoCommand script number → read_script script ≡ Err number
no_command-read script number h = go (read_script script) refl
  where
    go : (r : Result (List Step) ℕ) → read_script script ≡ r → read_script script ≡ Err number
    go (Ok steps) e = absurd (not-both script steps number (read-steps script steps e) h)
    go (Err other) e = e ∙ ap (λ n. Err n) (fault-one script other number (read-no_command script other e) h)

-- ---- rows

-- a command alone in the line of a number; an edit in the line of a number; and one behind `try`
abbrev pub on_line : ℕ → Command Edit → Step
on_line number command = Alone (record { line = number; command = command })

abbrev pub edit_on : ℕ → Edit → EditAt
edit_on number e = record { line = number; edit = e }

abbrev pub tried_on : ℕ → Edit → Step
tried_on number e = Tried (edit_on number e)
