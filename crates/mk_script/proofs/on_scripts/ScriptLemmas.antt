-- A script that is read from its first line on.
use Rattle.std.proofs.Common.{◌≡◌, ℕ, ◌+◌, ◌≤◌, List, [], ◌∷◌, ◌++◌, refl, sym, ap, ◌∙◌, subst, length, arith, append_assoc, length-append}
use Rattle.std.specs.Prelude.{Some}
use Rattle.std.proofs.lemmas.List.{append-nil}
use Rattle.mk_script.specs.Lines.{script_lines, IsSkipped, Saying, Says}
use Rattle.mk_script.specs.Scripts.{Step, SayingAt, AreSaid, sayings, AreSteps, IsScript, IsReached, HasNoCommand, ReachesCommand}
use Rattle.mk_script.specs.BlockReading.{saying}
use Rattle.mk_script.specs.ReaderAnswers.{SayMore}
use Rattle.mk_script.proofs.on_commands.SayingLemmas.{has-saying, saying-written}
use Rattle.mk_script.proofs.on_scripts.GroupLemmas.{first-steps}
use Rattle.mk_script.proofs.on_scripts.SaidLemmas.{said-skipped, said-more, said-after, next-said}

-- `number` lines of a script are read, the lines `rest` are left, and these are the steps of the lines that are read
pub record IsReadSoFar (script : List ℕ) (number : ℕ) (rest : List (List ℕ)) (steps : List Step) : Type 0 where
  pub before : List (List ℕ)
  pub lines : script_lines script ≡ before ++ rest
  pub number_is : number ≡ length before
  pub are : AreSteps before steps

pub none-read : (script : List ℕ) (rest : List (List ℕ)) → rest ≡ script_lines script → IsReadSoFar script 0 rest []
none-read script rest h = record { before = []; lines = sym h; number_is = refl; are = tt }

one_longer : (n : ℕ) (before : List (List ℕ)) (line : List ℕ) (block : List (List ℕ)) → n ≡ length before → n + 1 + length block ≡ length (before ++ line ∷ block)
one_longer n before line block h = omega (arith, h, length-append before (line ∷ block))

-- a line that is skipped
pub skipped-read : (script : List ℕ) (n : ℕ) (line : List ℕ) (rest : List (List ℕ)) (steps : List Step) → IsReadSoFar script n (line ∷ rest) steps
    → IsSkipped line → IsReadSoFar script (n + 1) rest steps
skipped-read script n line rest steps h s =
    record {
      before = h.before ++ line ∷ [];
      lines = h.lines ∙ sym (append_assoc h.before (line ∷ []) rest);
      number_is = let longer = one_longer n h.before line [] h.number_is in omega (arith, longer);
      are = said-skipped 1 h.before line (sayings steps) s h.are;
    }

-- steps with one line more, and the lines of its blocks
steps-more : (before : List (List ℕ)) (line : List ℕ) (block : List (List ℕ)) (steps others : List Step) (n : ℕ) (x : Saying) → n ≡ length before → AreSteps before steps → Says line block x
    → SayMore steps (record { line = n + 1; saying = x }) others → AreSteps (before ++ line ∷ block) others
steps-more before line block steps others n x number are says more =
    let at : SayingAt = record { line = n + 1; saying = x } in
    subst (λ s. AreSaid 1 (before ++ line ∷ block) s) (sym more) (said-more 1 before line block (sayings steps) at (omega (arith, number)) says are)

-- a line that says something
pub said-read : (script : List ℕ) (n : ℕ) (line : List ℕ) (block rest : List (List ℕ)) (steps others : List Step) (x : Saying)
    → IsReadSoFar script n (line ∷ (block ++ rest)) steps → Says line block x → SayMore steps (record { line = n + 1; saying = x }) others
    → IsReadSoFar script (n + 1 + length block) rest others
said-read script n line block rest steps others x h says more =
    record {
      before = h.before ++ line ∷ block;
      lines = h.lines ∙ sym (append_assoc h.before (line ∷ block) rest);
      number_is = one_longer n h.before line block h.number_is;
      are = steps-more h.before line block steps others n x h.number_is h.are says more;
    }

pub all-read : (script : List ℕ) (n : ℕ) (rest : List (List ℕ)) (steps : List Step) → IsReadSoFar script n rest steps → rest ≡ [] → IsScript script steps
all-read script n rest steps h none =
    subst (λ ls. AreSteps ls steps) (sym (h.lines ∙ (ap (λ r. h.before ++ r) none ∙ append-nil h.before))) h.are

-- ---- the line that is reached

-- Steps go on behind a line that is not skipped, which says something with some of the lines below it.
pub record IsGoneOn (before : List (List ℕ)) (line : List ℕ) (after : List (List ℕ)) (steps : List Step) : Type 0 where
  pub block : List (List ℕ)
  pub rest : List (List ℕ)
  pub saying : Saying
  pub others : List Step
  pub whole : after ≡ block ++ rest
  pub says : Says line block saying
  pub more : SayMore steps (record { line = length before + 1; saying = saying }) others

pub gone-on : (before : List (List ℕ)) (line : List ℕ) (after : List (List ℕ)) (steps all : List Step) → (IsSkipped line → ⊥) → AreSteps before steps → AreSteps (before ++ line ∷ after) all
    → IsGoneOn before line after steps
gone-on before line after steps all unskipped are k =
    let a = said-after 1 before (line ∷ after) (sayings steps) (sayings all) are k in
    let next = next-said (1 + length before) line after a.later unskipped a.are in
    let x : SayingAt = record { line = length before + 1; saying = next.thing.saying } in
    let number : next.thing.line ≡ length before + 1 = let at = next.at in omega (arith, at) in
    let same : ◌≡◌ {A = SayingAt} (record { line = next.thing.line; saying = next.thing.saying }) x = ap (λ (l : ℕ). record { line = l; saying = next.thing.saying }) number in
    let said : sayings all ≡ (sayings steps ++ x ∷ []) ++ next.others =
    a.all_are ∙ (ap (λ s. sayings steps ++ s) (next.said_are ∙ ap (λ z. z ∷ next.others) same) ∙ sym (append_assoc (sayings steps) (x ∷ []) next.others)) in
    let first = first-steps all (sayings steps ++ x ∷ []) next.others said in
    record { block = next.block; rest = next.rest; saying = next.thing.saying; others = first.0; whole = next.whole; says = next.says; more = first.1 }

pub unread : (script : List ℕ) (n : ℕ) (line : List ℕ) (after : List (List ℕ)) (steps : List Step) → IsReadSoFar script n (line ∷ after) steps → (IsSkipped line → ⊥)
    → ((block rest : List (List ℕ)) (x : Saying) → after ≡ block ++ rest → Says line block x → (others : List Step) → SayMore steps (record { line = n + 1; saying = x }) others → ⊥)
    → HasNoCommand script (n + 1)
unread script n line after steps h unskipped never =
    record {
      before = h.before;
      line = line;
      after = after;
      lines = h.lines;
      number_is = ap (λ k. k + 1) h.number_is;
      steps = steps;
      are = h.are;
      property = λ block rest all whole are.
          let on = gone-on h.before line block steps all unskipped h.are are in
          never on.block (on.rest ++ rest) on.saying (whole ∙ (ap (λ b. b ++ rest) on.whole ∙ append_assoc on.block on.rest rest)) on.says on.others
          (subst (λ k. SayMore steps (record { line = k + 1; saying = on.saying }) on.others) (sym h.number_is) on.more);
    }

-- a line that is a command, for which memory was short
short : (script : List ℕ) (n : ℕ) (line : List ℕ) (block rest : List (List ℕ)) (steps others : List Step) (x : Saying) → IsReadSoFar script n (line ∷ (block ++ rest)) steps
    → Says line block x → SayMore steps (record { line = n + 1; saying = x }) others → ReachesCommand script (n + 1)
short script n line block rest steps others x h says more =
    record {
      before = h.before;
      line = line;
      after = block ++ rest;
      lines = h.lines;
      number_is = ap (λ k. k + 1) h.number_is;
      steps = steps;
      are = h.are;
      property = (block, rest, refl, (x, says), (others, steps-more h.before line block steps others n x h.number_is h.are says more));
    }

-- ---- a line as it is read

pub start-read : (script : List ℕ) (number : ℕ) (rest : List (List ℕ)) (steps : List Step) → number ≡ 0 → rest ≡ script_lines script → steps ≡ [] → IsReadSoFar script number rest steps
start-read script number rest steps none all empty = record { before = []; lines = sym all; number_is = none; are = subst (λ s. AreSteps [] s) (sym empty) tt }

-- A line of this number is the next of a script that is read so far, and these lines stand below it.
pub record IsAt (script : List ℕ) (number : ℕ) (line : List ℕ) (below : List (List ℕ)) (steps : List Step) : Type 0 where
  above : ℕ
  number_is : number ≡ above + 1
  so_far : IsReadSoFar script above (line ∷ below) steps

pub at-line : (script : List ℕ) (n number : ℕ) (lines : List (List ℕ)) (line : List ℕ) (below : List (List ℕ)) (steps : List Step) → IsReadSoFar script n lines steps → lines ≡ line ∷ below
    → number + length below ≡ n + length lines → IsAt script number line below steps
at-line script n number lines line below steps h is all = record {
  above = n;
  number_is = let long = ap length is in omega (arith, long, all);
  so_far = subst (λ ls. IsReadSoFar script n ls steps) is h;
}

pub at-skipped : (script : List ℕ) (number : ℕ) (line : List ℕ) (below : List (List ℕ)) (steps : List Step) → IsAt script number line below steps → IsSkipped line → IsReadSoFar script number below steps
at-skipped script number line below steps h s = subst (λ n. IsReadSoFar script n below steps) (sym h.number_is) (skipped-read script h.above line below steps h.so_far s)

at-more : (script : List ℕ) (number : ℕ) (line : List ℕ) (below : List (List ℕ)) (steps others : List Step) (x : Saying) (h : IsAt script number line below steps)
    → SayMore steps (record { line = number; saying = x }) others → SayMore steps (record { line = h.above + 1; saying = x }) others
at-more script number line below steps others x h more = subst (λ n. SayMore steps (record { line = n; saying = x }) others) h.number_is more

-- with the lines below it a line says this, and these lines are left
pub at-said : (script : List ℕ) (number last : ℕ) (line : List ℕ) (below left : List (List ℕ)) (steps others : List Step) (x : Saying) → IsAt script number line below steps
    → saying line below ≡ Some (x, left) → SayMore steps (record { line = number; saying = x }) others → last + length left ≡ number + length below → IsReadSoFar script last left others
at-said script number last line below left steps others x h stands more all =
    let is = saying-written line below left x stands in
    let read = said-read script h.above line is.block left steps others x (subst (λ ls. IsReadSoFar script h.above (line ∷ ls) steps) is.whole h.so_far) is.says (at-more script number line below steps others x h more) in
    let total = ap length is.whole ∙ length-append is.block left in
    let same = h.number_is in
    subst (λ k. IsReadSoFar script k left others) (omega (arith, total, all, same)) read

-- fewer lines are left
pub at-fewer : (line : List ℕ) (below left : List (List ℕ)) (x : Saying) → saying line below ≡ Some (x, left) → length left ≤ length below
at-fewer line below left x stands =
    let is = saying-written line below left x stands in
    let total = ap length is.whole ∙ length-append is.block left in
    omega (arith, total)

pub at-unread : (script : List ℕ) (number : ℕ) (line : List ℕ) (below : List (List ℕ)) (steps : List Step) → IsAt script number line below steps → (IsSkipped line → ⊥)
    → ((x : Saying) (rest : List (List ℕ)) → saying line below ≡ Some (x, rest) → (others : List Step) → SayMore steps (record { line = number; saying = x }) others → ⊥) → HasNoCommand script number
at-unread script number line below steps h unskipped refused =
    subst (λ n. HasNoCommand script n) (sym h.number_is)
    (unread script h.above line below steps h.so_far unskipped
    (λ block rest x whole says others more.
    refused x rest (ap (λ b. saying line b) whole ∙ has-saying line block rest x says) others (subst (λ n. SayMore steps (record { line = n; saying = x }) others) (sym h.number_is) more)))

pub at-short : (script : List ℕ) (number : ℕ) (line : List ℕ) (below left : List (List ℕ)) (steps others : List Step) (x : Saying) → IsAt script number line below steps
    → saying line below ≡ Some (x, left) → SayMore steps (record { line = number; saying = x }) others → ReachesCommand script number
at-short script number line below left steps others x h stands more =
    let is = saying-written line below left x stands in
    subst (λ n. ReachesCommand script n) (sym h.number_is)
    (short script h.above line is.block left steps others x (subst (λ ls. IsReadSoFar script h.above (line ∷ ls) steps) is.whole h.so_far) is.says (at-more script number line below steps others x h more))
