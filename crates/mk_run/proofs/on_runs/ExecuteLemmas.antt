-- The steps of a run, executed by a session one after the other.
use Rattle.std.proofs.Common.{◌≡◌, refl, sym, ap, subst, ◌∙◌, arith, ℕ, suc, zero, ◌+◌, ◌<◌, Bool, true, false, List, [], ◌∷◌, ◌++◌, length, take, drop, map, get_or, Ok, Err, Option}
use Rattle.std.specs.Io.KnownBytes.{Appends}
use Rattle.std.proofs.KnownBytes.{Appends-nil, Appends-trans}
use Rattle.std.proofs.lemmas.List.{append-nil, length-map, take_more, get_or-map}
use Rattle.mk_lines.specs.Device.{AppendsPrefix}
use Rattle.mk_lines.proofs.PrefixLemmas.{AppendsPrefix-front, AppendsPrefix-more}
use Rattle.mk_edit_language.specs.declared.refusal.Refusal.{Refusal}
use Rattle.mk_history.specs.Machine as machine
use Rattle.mk_history.specs.Shown.{Shown}
use Rattle.mk_session.specs.Sessions.{answer, IsUnrefused, session_refusal}
use Rattle.mk_script.specs.Scripts.{Step}
use Rattle.mk_run.specs.Report.{report_line}
use Rattle.mk_run.specs.ExecutedCommands.{Executed}
use Rattle.mk_run.specs.ExecutedSteps.{StepEnd, Tries, step_end, steps_next, executed_steps}
use Rattle.mk_run.specs.RunEnds.{GoesOn, IsLeftShort, IsLeftUnreported, written}
use Rattle.mk_run.specs.RunSteps.{IsStepRefused, IsStepShort, AreExecuted, AreEnded}
use Rattle.mk_run.specs.declared.step.RefusedCommand.{RefusedCommand}
use Rattle.mk_run.proofs.on_runs.CommandLemmas.{joined, executed-append}

-- ---- a list at one of its indices

split-at : {Y : Type 0} (ys : List Y) (i : ℕ) (d : Y) → i < length ys → ys ≡ take i ys ++ get_or ys i d ∷ drop (suc i) ys
split-at [] i d below = absurd (omega arith)
split-at (y ∷ ys) zero d below = refl
split-at (y ∷ ys) (suc i) d below = ap (λ l. y ∷ l) (split-at ys i d (omega arith))

mapped-is : {X Y : Type 0} (f : X → Y) (xs : List X) (i : ℕ) (x : X) → i < length xs → x ≡ get_or xs i x → get_or (map f xs) i (f x) ≡ f x
mapped-is f xs i x below is = get_or-map f xs i x (f x) below ∙ ap f (sym is)

-- the values before an index, the one there, and the later ones
pub mapped-at : {X Y : Type 0} (f : X → Y) (xs : List X) (i : ℕ) (x : X) → i < length xs → x ≡ get_or xs i x
    → take i (map f xs) ++ f x ∷ drop (suc i) (map f xs) ≡ map f xs
mapped-at f xs i x below is =
    sym (split-at (map f xs) i (f x) (omega (arith, below, length-map xs f)) ∙ ap (λ y. take i (map f xs) ++ y ∷ drop (suc i) (map f xs)) (mapped-is f xs i x below is))

-- the values up to an index, and the one there
pub mapped-more : {X Y : Type 0} (f : X → Y) (xs : List X) (i : ℕ) (x : X) → i < length xs → x ≡ get_or xs i x
    → take i (map f xs) ++ f x ∷ [] ≡ take (i + 1) (map f xs)
mapped-more f xs i x below is =
    sym (take_more (map f xs) i (f x) (omega (arith, below, length-map xs f)) ∙ ap (λ y. take i (map f xs) ++ y ∷ []) (mapped-is f xs i x below is))

-- the values from an index on
pub mapped-drop : {X Y : Type 0} (f : X → Y) (xs : List X) (i : ℕ) (x : X) → i < length xs → x ≡ get_or xs i x → drop i (map f xs) ≡ f x ∷ drop (suc i) (map f xs)
mapped-drop f [] i x below is = absurd (omega (arith, below))
mapped-drop f (y ∷ xs) zero x below is = ap (λ z. f z ∷ map f xs) (sym is)
mapped-drop f (y ∷ xs) (suc i) x below is = mapped-drop f xs i x (omega (arith, below)) is

-- and none behind the last one
pub mapped-dropped : {X Y : Type 0} (f : X → Y) (xs : List X) (i : ℕ) → (i < length xs → ⊥) → drop i (map f xs) ≡ []
mapped-dropped f [] zero above = refl
mapped-dropped f [] (suc i) above = refl
mapped-dropped f (x ∷ xs) zero above = absurd (above (omega arith))
mapped-dropped f (x ∷ xs) (suc i) above = mapped-dropped f xs i (λ less. above (omega (arith, less)))

-- ---- one step after the others

at-step : (k : Bool) (earlier : List Step) (c : Step) (later : List Step) (first : Shown (List ℕ)) (a : StepEnd)
    → GoesOn k (executed_steps k earlier first).refused → step_end c (executed_steps k earlier first).shown ≡ a
    → executed_steps k (earlier ++ c ∷ later) first ≡ joined (executed_steps k earlier first) (steps_next k (executed_steps k earlier first).shown (λ t. executed_steps k later t) a)
at-step k earlier c later first a on h =
    executed-append k earlier (c ∷ later) first on
    ∙ ap (λ x. joined (executed_steps k earlier first) (steps_next k (executed_steps k earlier first).shown (λ t. executed_steps k later t) x)) h

module _ (k : Bool) (earlier : List Step) (c : Step) (later : List Step) (first x : Shown (List ℕ)) (n : ℕ) (a b : Option (List ℕ)) (did : AreExecuted k earlier first x n (written a b)) where
  reached : GoesOn k (executed_steps k earlier first).refused
  reached off = sym did.number ∙ did.goes_on off

  at-shown : (r : StepEnd) → step_end c x ≡ r → step_end c (executed_steps k earlier first).shown ≡ r
  at-shown r h = ap (step_end c) (sym did.shown) ∙ h

  -- a step that is done
  pub granted-next : (y : Shown (List ℕ)) → step_end c x ≡ Ok y → AreExecuted k (earlier ++ c ∷ []) first y n (written a b)
  granted-next y h =
      let all = at-step k earlier c [] first (Ok y) reached (at-shown (Ok y) h) in
      record {
        goes_on = did.goes_on;
        number = omega (arith, did.number, ap (λ o. o.refused) all);
        shown = sym (ap (λ (o : Executed). o.shown) all);
        reported = subst (Appends a b) (sym (append-nil (executed_steps k earlier first).report) ∙ sym (ap (λ (o : Executed). o.report) all)) did.reported;
      }

  -- a step that finds no memory
  pub short-next : (y : Shown (List ℕ)) → IsStepShort (λ d. Tries c x d) x y → IsLeftShort k (earlier ++ c ∷ later) first y (written a b)
  short-next y g = record {
    lines = (executed_steps k earlier first).report;
    is_short = record {
      earlier = earlier;
      step = c;
      later = later;
      command = g.command;
      steps_are = refl;
      reached = reached;
      reported = refl;
      tries = subst (λ (t : Shown (List ℕ)). Tries c t g.command) did.shown g.tried;
      takes = g.takes;
      unrefused = subst (λ (t : Shown (List ℕ)). IsUnrefused g.command (answer g.command t)) did.shown g.unrefused;
    };
    is_out = did.reported;
    shown = g.same ∙ did.shown;
  }

-- what goes out for a refusal begins with its line
begins-with-line : (k : Bool) (s : Shown (List ℕ)) (others : Shown (List ℕ) → Executed) (n : ℕ) (q : machine.Refusal Refusal)
    → (rest : List ℕ) × ((steps_next k s others (Err (n, q))).report ≡ report_line n (session_refusal q) ++ rest)
begins-with-line true s others n q = ((others s).report, refl)
begins-with-line false s others n q = ([], refl)

module _ (earlier : List Step) (c : Step) (later : List Step) (first x y : Shown (List ℕ)) (n : ℕ) (a b d : Option (List ℕ)) (r : RefusedCommand) (h : IsStepRefused (step_end c x) r x y) where
  -- a step whose refusal is told, and does not end the run
  pub refused-next : (k : Bool) → AreExecuted k earlier first x n (written a b) → Appends b d (report_line r.line r.refusal) → k ≡ true → AreExecuted k (earlier ++ c ∷ []) first y (n + 1) (written a d)
  refused-next false did out on = absurd (cc)
  refused-next true did out on =
      let o = executed_steps true earlier first in
      let all = at-step true earlier c [] first (Err (r.line, h.cause)) (reached true earlier c later first x n a b did) (at-shown true earlier c later first x n a b did (Err (r.line, h.cause)) h.end_is) in
      let line = report_line r.line (session_refusal h.cause) in
      record {
        goes_on = λ off. absurd (cc);
        number = omega (arith, did.number, ap (λ o. o.refused) all);
        shown = h.same ∙ (did.shown ∙ sym (ap (λ (o : Executed). o.shown) all));
        reported = subst (Appends a d)
            (ap (λ (q : Refusal). o.report ++ report_line r.line q) h.told ∙ (ap (λ l. o.report ++ l) (sym (append-nil line)) ∙ sym (ap (λ (o : Executed). o.report) all)))
            (Appends-trans a b d o.report (report_line r.line r.refusal) did.reported out);
      }

  -- a step whose refusal is told, and ends the run
  pub refused-last : (k : Bool) → AreExecuted k earlier first x n (written a b) → Appends b d (report_line r.line r.refusal) → k ≡ false → AreEnded k (earlier ++ c ∷ later) first y (n + 1) (written a d)
  refused-last true did out off = absurd (cc)
  refused-last false did out off =
      let o = executed_steps false earlier first in
      let all = at-step false earlier c later first (Err (r.line, h.cause)) (reached false earlier c later first x n a b did) (at-shown false earlier c later first x n a b did (Err (r.line, h.cause)) h.end_is) in
      let line = report_line r.line (session_refusal h.cause) in
      record {
        ends = refl;
        one = omega (arith, did.goes_on refl);
        number = omega (arith, did.number, ap (λ o. o.refused) all);
        shown = h.same ∙ (did.shown ∙ sym (ap (λ (o : Executed). o.shown) all));
        reported = subst (Appends a d)
            (ap (λ (q : Refusal). o.report ++ report_line r.line q) h.told ∙ (ap (λ l. o.report ++ l) (sym (append-nil line)) ∙ sym (ap (λ (o : Executed). o.report) all)))
            (Appends-trans a b d o.report (report_line r.line r.refusal) did.reported out);
      }

  -- a step whose refusal is told, and whose line could not be written
  pub refused-cut : (k : Bool) → AreExecuted k earlier first x n (written a b) → AppendsPrefix b d (report_line r.line r.refusal) → AppendsPrefix a d (executed_steps k (earlier ++ c ∷ later) first).report
  refused-cut k did out =
      let o = executed_steps k earlier first in
      let all = at-step k earlier c later first (Err (r.line, h.cause)) (reached k earlier c later first x n a b did) (at-shown k earlier c later first x n a b did (Err (r.line, h.cause)) h.end_is) in
      let line = begins-with-line k o.shown (λ t. executed_steps k later t) r.line h.cause in
      subst (AppendsPrefix a d)
      (ap (λ (q : Refusal). o.report ++ (report_line r.line q ++ line.0)) h.told ∙ (ap (λ l. o.report ++ l) (sym line.1) ∙ sym (ap (λ (o : Executed). o.report) all)))
      (AppendsPrefix-more a b d o.report (report_line r.line r.refusal ++ line.0) did.reported (AppendsPrefix-front b d (report_line r.line r.refusal) line.0 out))

  -- a step whose refusal is told, and whose line is not out
  pub refused-unreported : (k : Bool) → AreExecuted k earlier first x n (written a b) → IsLeftUnreported k (earlier ++ c ∷ later) first y
  refused-unreported k did = record {
    earlier = earlier;
    step = c;
    later = later;
    told = (r.line, h.cause);
    steps_are = refl;
    reached = reached k earlier c later first x n a b did;
    shown = h.same ∙ did.shown;
    refused = ap (step_end c) h.same ∙ h.end_is;
  }

-- no step yet
pub none-executed : (k : Bool) (first last : Shown (List ℕ)) (a : Option (List ℕ)) → last ≡ first → AreExecuted k [] first last 0 (written a a)
none-executed k first last a same = record { goes_on = λ off. refl; number = refl; shown = same; reported = Appends-nil a }
