-- A script says one thing.
use Rattle.std.proofs.Common.{◌≡◌, ℕ, suc, zero, ◌+◌, ◌<◌, ◌≤◌, Bool, true, false, List, [], ◌∷◌, ◌++◌, refl, sym, ap, ◌∙◌, subst, inl, inr, length, arith, append_assoc, length-append}
use Rattle.std.specs.Prelude.{◌⊎◌}
use Rattle.std.proofs.lemmas.Bool.{cases_lt}
use Rattle.mk_script.specs.Lines.{script_lines, IsSkipped, Saying, Says}
use Rattle.mk_script.specs.Scripts.{Step, AreSaid, sayings, AreSteps, IsScript, HasNoCommand}
use Rattle.mk_script.specs.ReaderAnswers.{is_skipped, SayMore}
use Rattle.mk_script.specs.ScriptLaws.{StepsAreOne, NoScriptIsBoth, FirstFaultIsOne, EachScriptIsRead}
use Rattle.mk_script.proofs.on_commands.SayingLemmas.{IsSaid}
use Rattle.mk_script.proofs.on_scripts.LineLemmas.{LineIs, Skipped, Said, Neither, skipped-is, unskipped, skipped-says_nothing, one_saying, says-or-not}
use Rattle.mk_script.proofs.on_scripts.SaidLemmas.{said-skipped, said-more, said-one}
use Rattle.mk_script.proofs.on_scripts.GroupLemmas.{sayings-one, more-or_not}
use Rattle.mk_script.proofs.on_scripts.ScriptLemmas.{IsReadSoFar, none-read, skipped-read, said-read, all-read, gone-on, unread}

pub steps-one : StepsAreOne
steps-one script steps others h k = sayings-one steps others (said-one 1 (script_lines script) (sayings steps) (sayings others) h k)

-- ---- steps and a line without one

-- Steps that go on behind a line are steps with that line.
gone-steps : (before : List (List ℕ)) (line : List ℕ) (after : List (List ℕ)) (steps all : List Step) → AreSteps before steps → AreSteps (before ++ line ∷ after) all
    → (block : List (List ℕ)) × (rest : List (List ℕ)) × (after ≡ block ++ rest) × ((others : List Step) × AreSteps (before ++ line ∷ block) others)
gone-steps before line after steps all h k = go (is_skipped line) refl
  where
    go : (b : Bool) → is_skipped line ≡ b → (block : List (List ℕ)) × (rest : List (List ℕ)) × (after ≡ block ++ rest) × ((others : List Step) × AreSteps (before ++ line ∷ block) others)
    go true e = ([], after, refl, (steps, said-skipped 1 before line (sayings steps) (skipped-is line e) h))
    go false e =
        let on = gone-on before line after steps all (unskipped line e) h k in
        let number : length before + 1 ≡ 1 + length before = omega arith in (
          on.block,
          on.rest,
          on.whole,
          (on.others, subst (λ s. AreSaid 1 (before ++ line ∷ on.block) s) (sym on.more) (said-more 1 before line on.block (sayings steps) (record { line = length before + 1; saying = on.saying }) number on.says h)),
        )

pub not-both : NoScriptIsBoth
not-both script steps n h k =
    let on = gone-steps k.before k.line k.after k.steps steps k.are (subst (λ ls. AreSteps ls steps) k.lines h) in
    k.property on.0 on.1 on.3.0 on.2 on.3.1

-- ---- one first line without a command

-- of two lists that begin one list, the shorter one with an element more begins the longer one
record IsLonger (xs ys : List (List ℕ)) (a b : List ℕ) (more others : List (List ℕ)) : Type 0 where
  rest : List (List ℕ)
  list : ys ≡ xs ++ a ∷ rest
  tail : more ≡ rest ++ b ∷ others

longer : (xs ys : List (List ℕ)) (a b : List ℕ) (more others : List (List ℕ)) → xs ++ a ∷ more ≡ ys ++ b ∷ others → length xs < length ys → IsLonger xs ys a b more others
longer xs [] a b more others e less = absurd (omega (arith, less))
longer [] (y ∷ ys) a b more others e less = let same : y ≡ a = cc in record { rest = ys; list = ap (λ z. z ∷ ys) same; tail = cc }
longer (x ∷ xs) (y ∷ ys) a b more others e less =
    let tails : xs ++ a ∷ more ≡ ys ++ b ∷ others = cc in
    let same : y ≡ x = cc in
    let r = longer xs ys a b more others tails (omega (arith, less)) in
    record { rest = r.rest; list = ap (λ z. z ∷ ys) same ∙ ap (λ zs. x ∷ zs) r.list; tail = r.tail }

not_before : (script : List ℕ) (n m : ℕ) (h : HasNoCommand script n) (k : HasNoCommand script m) → length h.before < length k.before → ⊥
not_before script n m h k less =
    let r = longer h.before k.before h.line k.line h.after k.after (sym h.lines ∙ k.lines) less in
    let on = gone-steps h.before h.line r.rest h.steps k.steps h.are (subst (λ ls. AreSteps ls k.steps) r.list k.are) in
    h.property on.0 (on.1 ++ k.line ∷ k.after) on.3.0 (r.tail ∙ (ap (λ ls. ls ++ k.line ∷ k.after) on.2 ∙ append_assoc on.0 on.1 (k.line ∷ k.after))) on.3.1

same_number : (a b : ℕ) → (a < b → ⊥) → (b < a → ⊥) → a ≡ b
same_number a b h k = go (cases_lt a b) (cases_lt b a)
  where
    go : (a < b) ⊎ (b ≤ a) → (b < a) ⊎ (a ≤ b) → a ≡ b
    go (inl less) q = absurd (h less)
    go (inr p) (inl less) = absurd (k less)
    go (inr p) (inr q) = omega (arith, p, q)

pub fault-one : FirstFaultIsOne
fault-one script n m h k =
    let same = same_number (length h.before) (length k.before) (not_before script n m h k) (not_before script m n k h) in
    h.number_is ∙ (ap (λ l. l + 1) same ∙ sym k.number_is)

-- ---- each script is read

-- `most` is at least the number of lines that are left
read-on : (most : ℕ) (script : List ℕ) (n : ℕ) (rest : List (List ℕ)) (steps : List Step) → length rest ≤ most → IsReadSoFar script n rest steps
    → ((all : List Step) × IsScript script all) ⊎ ((number : ℕ) × HasNoCommand script number)
read-on most script n [] steps few h = inl (steps, all-read script n [] steps h refl)
read-on zero script n (line ∷ after) steps few h = absurd (omega (arith, few))
read-on (suc most) script n (line ∷ after) steps few h =
    go (says-or-not line after) (λ m rest others fewer k. read-on most script m rest others fewer k)
  where
    unsaid : (IsSkipped line → ⊥) → ((block rest : List (List ℕ)) (x : Saying) → after ≡ block ++ rest → Says line block x → (others : List Step) → SayMore steps (record { line = n + 1; saying = x }) others → ⊥)
        → ((all : List Step) × IsScript script all) ⊎ ((number : ℕ) × HasNoCommand script number)
    unsaid unskipped never = inr (n + 1, unread script n line after steps h unskipped never)

    said : (rest : List (List ℕ)) (x : Saying) (is : IsSaid line after rest x)
        → ((others : List Step) × SayMore steps (record { line = n + 1; saying = x }) others) ⊎ ((others : List Step) → SayMore steps (record { line = n + 1; saying = x }) others → ⊥)
        → ((m : ℕ) (rest : List (List ℕ)) (others : List Step) → length rest ≤ most → IsReadSoFar script m rest others → ((all : List Step) × IsScript script all) ⊎ ((number : ℕ) × HasNoCommand script number))
        → ((all : List Step) × IsScript script all) ⊎ ((number : ℕ) × HasNoCommand script number)
    said rest x is (inl (others, more)) on =
        let total = ap length is.whole ∙ length-append is.block rest in
        on (n + 1 + length is.block) rest others (omega (arith, total, few))
        (said-read script n line is.block rest steps others x (subst (λ ls. IsReadSoFar script n (line ∷ ls) steps) is.whole h) is.says more)
    said rest x is (inr none) on =
        unsaid (λ s. skipped-says_nothing line is.block x s is.says)
        (λ block left y whole says others more.
        none others (subst (λ z. SayMore steps (record { line = n + 1; saying = z }) others) (one_saying line block left is.block rest y x says is.says (sym whole ∙ is.whole)).0 more))

    go : LineIs line after
        → ((m : ℕ) (rest : List (List ℕ)) (others : List Step) → length rest ≤ most → IsReadSoFar script m rest others → ((all : List Step) × IsScript script all) ⊎ ((number : ℕ) × HasNoCommand script number))
        → ((all : List Step) × IsScript script all) ⊎ ((number : ℕ) × HasNoCommand script number)
    go (Skipped s) on = on (n + 1) after steps (omega (arith, few)) (skipped-read script n line after steps h s)
    go (Said rest x is) on = said rest x is (more-or_not steps (record { line = n + 1; saying = x })) on
    go (Neither unskipped none) on = unsaid unskipped (λ block rest x whole says others more. none block rest x whole says)

pub script-read : EachScriptIsRead
script-read script =
    read-on (length (script_lines script)) script 0 (script_lines script) [] (omega arith) (none-read script (script_lines script) refl)
