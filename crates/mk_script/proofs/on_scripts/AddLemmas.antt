-- A line is added to steps, or is not.
use Rattle.std.proofs.Common.{◌≡◌, ℕ, ◌-◌, ◌<◌, false, List, [], ◌∷◌, ◌++◌, length, refl, sym, ap, ◌∙◌, subst, arith, map, take, append_assoc}
use Rattle.std.specs.Prelude.{Option, Some, None, option_map, option_and_then, is_some, Result, Ok, Err}
use Rattle.std.specs.Result.{IsErrAnd}
use Rattle.std.proofs.lemmas.List.{map-append}
use Rattle.mk_edit_language.specs.Edits.{Edit}
use Rattle.mk_script.specs.Lines.{Saying, Plain, Or}
use Rattle.mk_script.specs.BlockReading.{texts_of_line, said_from, saying}
use Rattle.mk_script.specs.CommandReading.{Texts, worded, command_after, saying_after, saying_in}
use Rattle.mk_script.specs.declared.table.Word.{Word}
use Rattle.mk_script.specs.declared.table.Word.TheVariants as word
use Rattle.mk_script.specs.Scripts.{EditAt, edit_at, Step, SayingAt, or_at, sayings_of, sayings, chain_of}
use Rattle.mk_script.specs.ReaderAnswers.{IsRead, is_short, takes_alternative, SayMore, Adds, AddsBelow, AddsLine, Pushes}
use Rattle.mk_script.specs.declared.fault.LineFault.{LineFault}
use Rattle.mk_script.specs.declared.fault.LineFault.TheVariants.{NotACommand, NoMemory}
use Rattle.mk_script.proofs.on_commands.TableLemmas.{is_some_mapped, mapped}
use Rattle.mk_script.proofs.on_scripts.GroupLemmas.{sayings-last, none-first, none-below}

-- ---- what is said more

-- a step of its own
pub step-more : (steps : List Step) (step : Step) (x : SayingAt) → sayings_of step ≡ x ∷ [] → SayMore steps x (steps ++ step ∷ [])
step-more steps step x is = sayings-last steps step ∙ ap (λ s. sayings steps ++ s) is

chain-more : (first : EditAt) (others : List EditAt) (e : EditAt) → sayings_of (chain_of first (others ++ e ∷ [])) ≡ sayings_of (chain_of first others) ++ or_at e ∷ []
chain-more first [] e = refl
chain-more first (second ∷ others) e = ap (λ s. (sayings_of (chain_of first []) ++ or_at second ∷ []) ++ s) (map-append or_at others (e ∷ []))

-- an alternative of the last step
alternative-more : (base init : List Step) (first : EditAt) (others : List EditAt) (n : ℕ) (e : Edit) → base ≡ init ++ chain_of first others ∷ []
    → SayMore base (record { line = n; saying = Or e }) (init ++ chain_of first (others ++ record { line = n; edit = e } ∷ []) ∷ [])
alternative-more base init first others n e is =
    let x : SayingAt = record { line = n; saying = Or e } in
    sayings-last init (chain_of first (others ++ record { line = n; edit = e } ∷ []))
    ∙ (ap (λ s. sayings init ++ s) (chain-more first others (record { line = n; edit = e }))
    ∙ (sym (append_assoc (sayings init) (sayings_of (chain_of first others)) (x ∷ []))
    ∙ (ap (λ s. s ++ x ∷ []) (sym (sayings-last init (chain_of first others))) ∙ ap (λ b. sayings b ++ x ∷ []) (sym is))))

-- ---- steps that are pushed

-- what may stand there was added, or memory was short for it
pub added : {X : Type 0} (f : X → Step) (base : List Step) (old new : List X) (step : X) (n : ℕ) (stands : Option Saying) (x : Saying) (r : Result (Unit {0}) LineFault)
    → stands ≡ Some x → SayMore base (record { line = n; saying = x }) (map f old ++ f step ∷ []) → Pushes old step new r → Adds base n stands (map f new) r
added f base old new step n stands x (Ok u) is more pushed =
    (x, is, subst (λ (s : List Step). SayMore base (record { line = n; saying = x }) s) (sym (ap (λ l. map f l) pushed ∙ map-append f old (step ∷ []))) more)
added f base old new step n stands x (Err NoMemory) is more pushed = (x, is, (map f old ++ f step ∷ [], more))
added f base old new step n stands x (Err NotACommand) is more pushed = absurd (cc)

-- a longer step in the place of the last one
pub put-below : {X : Type 0} (f : X → Step) (base : List Step) (old new : List X) (last : Step) (step : X) (n : ℕ) (stands : Option Saying) (r : Result (Unit {0}) LineFault)
    → base ≡ map f old ++ last ∷ [] → AddsBelow f (map f old) last n stands (Ok step) → Pushes old step new r → Adds base n stands (map f new) r
put-below f base old new last step n stands r is (x, at, more) pushed =
    added f base old new step n stands x r at (subst (λ (b : List Step). SayMore b (record { line = n; saying = x }) (map f old ++ f step ∷ [])) (sym is) more) pushed

-- an edit behind others
pub edit-pushed : {X : Type 0} (f : X → EditAt) (old new : List X) (x : X) (n : ℕ) (e : Edit) (o : Option Edit) (r : Result (Unit {0}) LineFault)
    → o ≡ Some e → f x ≡ edit_at n e → Pushes old x new r → IsRead (λ (u : Unit {0}). map f new) (option_map (λ (d : Edit). map f old ++ edit_at n d ∷ []) o) r
edit-pushed f old new x n e o (Ok u) at is pushed =
    ap (λ y. option_map (λ (d : Edit). map f old ++ edit_at n d ∷ []) y) at
    ∙ ap (λ l. Some l) (sym (ap (λ l. map f l) pushed ∙ (map-append f old (x ∷ []) ∙ ap (λ y. map f old ++ y ∷ []) is)))
edit-pushed f old new x n e o (Err fault) at is pushed = rw (at, pushed) refl

pub not-pushed : {X V : Type 0} (seen : V → X) (make : Edit → X) (o : Option Edit) (r : Result V LineFault) (fault : LineFault) → IsErrAnd r (λ e. e ≡ fault)
    → is_some o ≡ is_short fault → IsRead seen (option_map make o) r
not-pushed seen make o (Ok v) fault h none = absurd h
not-pushed seen make o (Err e) fault h none = is_some_mapped make o ∙ (none ∙ ap is_short (sym h))

-- what is told of edits to which one was put
edit-put : (old new : List EditAt) (n : ℕ) (o : Option Edit) → option_map (λ (d : Edit). old ++ edit_at n d ∷ []) o ≡ Some new → (e : Edit) × (o ≡ Some e) × (old ++ edit_at n e ∷ [] ≡ new)
edit-put old new n o h = mapped (λ (d : Edit). old ++ edit_at n d ∷ []) o new h

pub some-put : {X : Type 0} (f : X → EditAt) (old : List EditAt) (new : List X) (n : ℕ) (o : Option Edit) → option_map (λ (d : Edit). old ++ edit_at n d ∷ []) o ≡ Some (map f new) → 0 < length new
some-put f old [] n o h = absurd (let m = edit-put old [] n o h in none-behind old (edit_at n m.0) m.2)
  where
    none-behind : (l : List EditAt) (e : EditAt) → l ++ e ∷ [] ≡ [] → ⊥
    none-behind [] e h = absurd (cc)
    none-behind (y ∷ l) e h = absurd (cc)
some-put f old (x ∷ new) n o h = omega arith

pub alternative-put : (above : List Step) (last : Step) (first : EditAt) (others new : List EditAt) (n : ℕ) (o : Option Edit) → last ≡ chain_of first others
    → option_map (λ (d : Edit). others ++ edit_at n d ∷ []) o ≡ Some new
    → (x : Saying) × (option_map Or o ≡ Some x) × SayMore (above ++ last ∷ []) (record { line = n; saying = x }) (above ++ chain_of first new ∷ [])
alternative-put above last first others new n o is put =
    let m = edit-put others new n o put in (
      Or m.0,
      ap (λ y. option_map Or y) m.1,
      subst (λ (l : List EditAt). SayMore (above ++ last ∷ []) (record { line = n; saying = Or m.0 }) (above ++ chain_of first l ∷ [])) m.2
          (alternative-more (above ++ last ∷ []) above first others n m.0 (ap (λ s. above ++ s ∷ []) is)),
    )

-- ---- what was not read

-- nothing stands there, or memory was short for what does
pub not-read : {E : Type 0} (o : Option E) (make : E → Saying) (base : List Step) (n : ℕ) (stands : Option Saying) (new : List Step) (fault : LineFault)
    → stands ≡ option_map make o → is_some o ≡ is_short fault → ((e : E) → (others : List Step) × SayMore base (record { line = n; saying = make e }) others)
    → Adds base n stands new (Err fault)
not-read None make base n stands new NotACommand is none more = λ x some others h. absurd (cc)
not-read None make base n stands new NoMemory is none more = absurd (cc)
not-read (Some e) make base n stands new NotACommand is some more = absurd (cc)
not-read (Some e) make base n stands new NoMemory is some more = (make e, is, more e)

-- no alternative may stand first, or below such a step
alternative-is : (o : Option Edit) (x : Saying) → option_map Or o ≡ Some x → (e : Edit) × (x ≡ Or e)
alternative-is None x h = absurd (cc)
alternative-is (Some e) x h = let same : Or e ≡ x = cc in (e, sym same)

pub first-refused : (base : List Step) (n : ℕ) (o : Option Edit) (new : List Step) → base ≡ [] → Adds base n (option_map Or o) new (Err NotACommand)
first-refused base n o new none = λ x is others more.
    let e = alternative-is o x is in
    none-first n e.0 others (subst (λ b. SayMore b (record { line = n; saying = Or e.0 }) others) none (subst (λ s. SayMore base (record { line = n; saying = s }) others) e.1 more))

pub below-refused : (base init : List Step) (last : Step) (n : ℕ) (o : Option Edit) (new : List Step) → base ≡ init ++ last ∷ [] → takes_alternative last ≡ false
    → Adds base n (option_map Or o) new (Err NotACommand)
below-refused base init last n o new is no_more = λ x stands others more.
    let e = alternative-is o x stands in
    none-below init last n e.0 no_more others (subst (λ b. SayMore b (record { line = n; saying = Or e.0 }) others) is (subst (λ s. SayMore base (record { line = n; saying = s }) others) e.1 more))

-- a fault that is handed on
pub handed-on : (base : List Step) (n : ℕ) (stands : Option Saying) (new : List Step) (r : Result (Unit {0}) LineFault) (fault : LineFault) → IsErrAnd r (λ e. e ≡ fault)
    → Adds base n stands new (Err fault) → Adds base n stands new r
handed-on base n stands new (Ok u) fault h adds = absurd h
handed-on base n stands new (Err e) fault h adds = subst (λ f. Adds base n stands new (Err f)) (sym h) adds

-- what is not read below a step is refused, whatever is left
pub below-not-read : {X : Type 0} (f : X → Step) (above : List Step) (last : Step) (first : EditAt) (others : List EditAt) (n : ℕ) (o : Option Edit) (r : Result X LineFault) (fault : LineFault)
    → last ≡ chain_of first others → IsErrAnd r (λ e. e ≡ fault) → is_some (option_map (λ (d : Edit). others ++ edit_at n d ∷ []) o) ≡ is_short fault
    → AddsBelow f above last n (option_map Or o) r
below-not-read f above last first others n o (Ok u) fault is h none = absurd h
below-not-read f above last first others n o (Err e) fault is h none =
    not-read o Or (above ++ last ∷ []) n (option_map Or o) [] e refl (sym (is_some_mapped (λ (d : Edit). others ++ edit_at n d ∷ []) o) ∙ (none ∙ ap is_short (sym h)))
    (λ d. (above ++ chain_of first (others ++ edit_at n d ∷ []) ∷ [], alternative-more (above ++ last ∷ []) above first others n d (ap (λ s. above ++ s ∷ []) is)))

pub below-left : (base above : List Step) (last : Step) (n : ℕ) (stands : Option Saying) (new : List Step) (r : Result (Unit {0}) LineFault) (fault : LineFault)
    → base ≡ above ++ last ∷ [] → IsErrAnd r (λ e. e ≡ fault) → Adds (above ++ last ∷ []) n stands [] (Err fault) → Adds base n stands new r
below-left base above last n stands new r fault is h adds =
    handed-on base n stands new r fault h (subst (λ (b : List Step). Adds b n stands new (Err fault)) (sym is) (left fault adds))
  where
    left : (e : LineFault) → Adds (above ++ last ∷ []) n stands [] (Err e) → Adds (above ++ last ∷ []) n stands new (Err e)
    left NotACommand a = a
    left NoMemory a = a

-- ---- lists

-- the values of a list that lost its last one
pub last-mapped : {X Y : Type 0} (f : X → Y) (old init : List X) (x : X) → old ≡ init ++ x ∷ [] → map f old ≡ map f init ++ f x ∷ []
last-mapped f old init x is = ap (λ l. map f l) is ∙ map-append f init (x ∷ [])

-- the values of a list that had none
pub none-left : {X Y : Type 0} (f : X → Y) (old new : List X) (n : ℕ) → old ≡ new ++ [] → n ≡ 0 → new ≡ take (n - 1) old → map f old ≡ []
none-left f old new n is none front =
    let empty : new ≡ [] = front ∙ ap (λ k. take (k - 1) old) none in
    ap (λ l. map f l) (is ∙ ap (λ l. l ++ []) empty)

-- ---- what fields say, by their first word

pub said-by : (fields others : Texts) (w : Word) → worded fields ≡ Some (w, others) → saying_in fields ≡ saying_after w others
said-by fields others w k = ap (λ o. option_and_then (λ (p : Word × Texts). saying_after p.0 p.1) o) k

pub said-plain : (w : Word) (others : Texts) → (w ≡ word.Try → ⊥) → (w ≡ word.Or → ⊥) → saying_after w others ≡ option_map Plain (command_after w others)
said-plain word.Try others no_try no_or = absurd (no_try refl)
said-plain word.Or others no_try no_or = absurd (no_or refl)
said-plain w others no_try no_or = refl

-- ---- a line with the lines of its blocks

line-says : (line : List ℕ) (below left : List (List ℕ)) (texts : Texts) → texts_of_line line below ≡ Some (texts, left) → saying line below ≡ option_map (λ (x : Saying). (x, left)) (saying_in texts)
line-says line below left texts h = ap (λ o. option_and_then said_from o) h

pub line-added : (base : List Step) (n : ℕ) (line : List ℕ) (below left : List (List ℕ)) (texts : Texts) (new : List Step) (r : Result (Unit {0}) LineFault) → texts_of_line line below ≡ Some (texts, left)
    → Adds base n (saying_in texts) new r → AddsLine base n (saying line below) new r left
line-added base n line below left texts new (Ok u) is (x, stands, more) = (x, line-says line below left texts is ∙ ap (λ o. option_map (λ (y : Saying). (y, left)) o) stands, more)
line-added base n line below left texts new (Err NotACommand) is refused = λ x rest stands others more.
    let m = mapped (λ (y : Saying). (y, left)) (saying_in texts) (x, rest) (sym (line-says line below left texts is) ∙ stands) in
    let same : m.0 ≡ x = ap (λ (p : Saying × List (List ℕ)). p.0) m.2 in
    refused x (m.1 ∙ ap (λ y. Some y) same) others more
line-added base n line below left texts new (Err NoMemory) is (x, stands, more) = (x, line-says line below left texts is ∙ ap (λ o. option_map (λ (y : Saying). (y, left)) o) stands, more)

pub line-refused : (base : List Step) (n : ℕ) (line : List ℕ) (below left : List (List ℕ)) (new : List Step) (r : Result (Unit {0}) LineFault) → texts_of_line line below ≡ None
    → IsErrAnd r (λ e. e ≡ NotACommand) → AddsLine base n (saying line below) new r left
line-refused base n line below left new (Ok u) none h = absurd h
line-refused base n line below left new (Err e) none h =
    let nothing : saying line below ≡ None = ap (λ o. option_and_then said_from o) none in
    subst (λ f. AddsLine base n (saying line below) new (Err f) left) (sym h) (λ x rest stands others more. absurd (cc))
