-- Lines of edits, one after the other, are a script that makes these edits.
use Rattle.std.proofs.Common.{◌≡◌, refl, sym, ap, ◌∙◌, subst, ℕ, zero, suc, ◌+◌, ◌-◌, ◌<◌, List, [], ◌∷◌, ◌++◌, length, map, take, get_or, slice_index, false, arith, append_assoc, length-append, append-nil, Option, Some, None, inr}
use Rattle.std.specs.Prelude.{Result, Ok, Err, OnOk, if◌then◌else◌, is_ok}
use Rattle.std.specs.List.{AllByRecursion, flat_map}
use Rattle.std.proofs.lemmas.Grind.{flat_map-append}
use Rattle.std.proofs.lemmas.List.{map-append, map_more}
use Rattle.bstr.specs.Text.{lines_of, without_terminator}
use Rattle.bstr.proofs.lemmas.LineLemmas.{EndsLine, lines-append, lines-nil}
use Rattle.mk_lines.specs.Lists.{concat}
use Rattle.mk_lines.proofs.on_lists.ListLemmas.{concat-append}
use Rattle.mk_edit_language.specs.Edits.{Edit}
use Rattle.mk_edit_language.specs.EditViews.{edit_of}
use Rattle.mk_edit_language.specs.declared.edit.Edit as code
use Rattle.mk_edit_language.specs.declared.refusal.Refusal.{Refusal}
use Rattle.mk_history.specs.Machine.{Apply, EditRefused}
use Rattle.mk_history.specs.Shown.{Shown, shown_edited, shown_opened}
use Rattle.mk_session.specs.Sessions.{edited}
use Rattle.mk_script.specs.Lines.{script_lines, IsSkipped, Says}
use Rattle.mk_script.specs.Scripts.{AreSaid, BeginWith, CommandAt, IsScript, SayingAt, Alone, sayings}
use Rattle.mk_script.specs.WrittenEdits.{SaysOnly, command_line, each_ended, lines_of_blocks, script_of}
use Rattle.mk_run.specs.ExecutedCommands.{Executed}
use Rattle.mk_run.specs.ExecutedSteps.{Answer, alone_end, executed_steps, steps_next}
use Rattle.mk_run.specs.Runs.{done_with, result_after}
use Rattle.mk_repl.specs.CommandLogs.{AddsLines, edits_of, made_next, made_of}
use Rattle.mk_repl.specs.StandingScripts.{MakesText}
use Rattle.mk_repl.specs.declared.command_log.Member.{Member}

-- ---- lines

abbrev EachSkipped : List (List ℕ) → Type 0
EachSkipped lines = AllByRecursion IsSkipped lines

skipped-both : (a b : List (List ℕ)) → EachSkipped a → EachSkipped b → EachSkipped (a ++ b)
skipped-both [] b h k = k
skipped-both (l ∷ a) b h k = (h.0, skipped-both a b h.1 k)

-- more lines behind those that begin with something
abbrev begin-more : (n : ℕ) (lines more : List (List ℕ)) (x : SayingAt) → (h : BeginWith (λ line block (y : SayingAt). Says line block y.saying) (λ (y : SayingAt). y.line) n lines x)
    → BeginWith (λ line block (y : SayingAt). Says line block y.saying) (λ (y : SayingAt). y.line) n (lines ++ more) x
begin-more n lines more x h = record {
  skipped = h.skipped;
  line = h.line;
  block = h.block;
  rest = h.rest ++ more;
  lines_are =
      ap (λ ls. ls ++ more) h.lines_are
      ∙ (append_assoc h.skipped (h.line ∷ (h.block ++ h.rest)) more ∙ ap (λ ls. h.skipped ++ h.line ∷ ls) (append_assoc h.block h.rest more));
  are_skipped = h.are_skipped;
  number_is = h.number_is;
  says = h.says;
}

-- lines that are skipped, and then more
abbrev begin-later : (n m : ℕ) (lines more : List (List ℕ)) (x : SayingAt) → EachSkipped lines → m ≡ n + length lines
    → BeginWith (λ line block (y : SayingAt). Says line block y.saying) (λ (y : SayingAt). y.line) m more x
    → BeginWith (λ line block (y : SayingAt). Says line block y.saying) (λ (y : SayingAt). y.line) n (lines ++ more) x
begin-later n m lines more x skip at h = record {
  skipped = lines ++ h.skipped;
  line = h.line;
  block = h.block;
  rest = h.rest;
  lines_are = ap (λ ls. lines ++ ls) h.lines_are ∙ sym (append_assoc lines h.skipped (h.line ∷ (h.block ++ h.rest)));
  are_skipped = skipped-both lines h.skipped skip h.are_skipped;
  number_is = let total = length-append lines h.skipped in omega (arith, at, total, h.number_is);
  says = h.says;
}

-- what lines say, and then more lines
said-both : (n m : ℕ) (lines more : List (List ℕ)) (xs ys : List SayingAt) → m ≡ n + length lines → AreSaid n lines xs → AreSaid m more ys
    → AreSaid n (lines ++ more) (xs ++ ys)
said-both n m lines more [] [] at h k = skipped-both lines more h k
said-both n m lines more [] (y ∷ ys) at h k = (begin-later n m lines more y h at k.0, k.1)
said-both n m lines more (x ∷ xs) ys at h k =
    let whole = ap length h.0.lines_are ∙ length-append h.0.skipped (h.0.line ∷ (h.0.block ++ h.0.rest)) in
    let inner = length-append h.0.block h.0.rest in
    (begin-more n lines more x h.0, said-both (x.line + 1 + length h.0.block) m h.0.rest more xs ys (omega (arith, at, whole, inner, h.0.number_is)) h.1 k)

-- ---- edits

-- the last byte of two texts is that of the second
last-behind : (xs ys : List ℕ) → 0 < length ys → slice_index (xs ++ ys) (length (xs ++ ys) - 1) ≡ slice_index ys (length ys - 1)
last-behind [] ys some = refl
last-behind (x ∷ xs) ys some =
    let total = length-append xs ys in
    let e : length (x ∷ (xs ++ ys)) - 1 ≡ suc (length (xs ++ ys) - 1) = omega (arith, total, some) in
    ap (slice_index (x ∷ (xs ++ ys))) e ∙ last-behind xs ys some

ended-line : (ls : List (List ℕ)) (l : List ℕ) → slice_index (each_ended (l ∷ ls)) (length (each_ended (l ∷ ls)) - 1) ≡ 10
ended-line [] l = last-behind l (10 ∷ []) (omega arith)
ended-line (k ∷ ls) l =
    let later = each_ended (k ∷ ls) in
    last-behind l (10 ∷ later) (omega arith) ∙ (last-behind (10 ∷ []) later (later-some k ls) ∙ ended-line ls k)
  where
    later-some : (k : List ℕ) (ls : List (List ℕ)) → 0 < length (each_ended (k ∷ ls))
    later-some k ls = let total = length-append k (10 ∷ each_ended ls) in omega (arith, total)

-- the lines of an edit, and then a script
lines-both : (e : Edit) (text : List ℕ) → script_lines (script_of e ++ text) ≡ script_lines (script_of e) ++ script_lines text
lines-both e text =
    let ends : EndsLine (script_of e) = inr (ended-line (lines_of_blocks e) (command_line e)) in
    ap (map without_terminator) (lines-append (length (script_of e)) (script_of e) text (omega arith) ends)
    ∙ map-append without_terminator (lines_of (script_of e)) (lines_of text)

-- the command of an edit, at a line
abbrev at_line : (n : ℕ) → Edit → CommandAt
at_line n e = record { line = n; command = Apply e }

-- the commands of edits, each at its line
abbrev at_lines : (n : ℕ) → List Edit → List CommandAt
at_lines n [] = []
at_lines n (e ∷ es) = at_line n e ∷ at_lines (n + length (script_lines (script_of e))) es

-- a script that is an edit says it at whatever line it begins
said-at : (n : ℕ) (e : Edit) → SaysOnly (script_of e) e → AreSaid n (script_lines (script_of e)) (sayings (Alone (at_line n e) ∷ []))
said-at n e h = (
  record {
    skipped = h.0.skipped;
    line = h.0.line;
    block = h.0.block;
    rest = h.0.rest;
    lines_are = h.0.lines_are;
    are_skipped = h.0.are_skipped;
    number_is = number n h.0.skipped h.0.number_is;
    says = h.0.says;
  },
  h.1,
)
  where
    number : (n : ℕ) (skipped : List (List ℕ)) → 1 ≡ 1 + length skipped → n ≡ n + length skipped
    number n skipped at = omega (arith, at)

said-edits : (n : ℕ) (es : List Edit) → AllByRecursion (λ e. SaysOnly (script_of e) e) es
    → AreSaid n (script_lines (flat_map script_of es)) (sayings (map Alone (at_lines n es)))
said-edits n [] h = subst (λ ls. AllByRecursion IsSkipped ls) (sym (ap (map without_terminator) lines-nil)) tt
said-edits n (e ∷ es) h =
    let m = n + length (script_lines (script_of e)) in
    subst (λ ls. AreSaid n ls (sayings (map Alone (at_lines n (e ∷ es))))) (sym (lines-both e (flat_map script_of es)))
    (said-both n m (script_lines (script_of e)) (script_lines (flat_map script_of es)) (sayings (Alone (at_line n e) ∷ [])) (sayings (map Alone (at_lines m es))) refl
    (said-at n e h.0) (said-edits m es h.1))

-- ---- lines that are added

adds-one : (e : Edit) (old lines new : List ℕ) → lines ≡ script_of e → SaysOnly lines e → new ≡ old ++ lines → AddsLines old (e ∷ []) new
adds-one e old lines new is says more = record {
  text = more ∙ ap (λ t. old ++ t) (is ∙ sym (append-nil (script_of e)));
  said = (subst (λ t. SaysOnly t e) is says, tt);
}

pub adds-extended : {E : Type 0} (e : Edit) (old lines new : List ℕ) (r : Result (Unit {0}) E) → lines ≡ script_of e → SaysOnly lines e → new ≡ (if is_ok r then old ++ lines else old)
    → OnOk r (AddsLines old (e ∷ []) new)
adds-extended e old lines new (Ok u) is says more = adds-one e old lines new is says more
adds-extended e old lines new (Err r) is says more = tt

all-both : (es fs : List Edit) → AllByRecursion (λ e. SaysOnly (script_of e) e) es → AllByRecursion (λ e. SaysOnly (script_of e) e) fs
    → AllByRecursion (λ e. SaysOnly (script_of e) e) (es ++ fs)
all-both [] fs h k = k
all-both (e ∷ es) fs h k = (h.0, all-both es fs h.1 k)

adds-both : (es fs : List Edit) (old mid new : List ℕ) → AddsLines old es mid → AddsLines mid fs new → AddsLines old (es ++ fs) new
adds-both es fs old mid new h k = record {
  text =
      k.text
      ∙ (ap (λ t. t ++ flat_map script_of fs) h.text
      ∙ (append_assoc old (flat_map script_of es) (flat_map script_of fs) ∙ ap (λ t. old ++ t) (sym (flat_map-append script_of es fs))));
  said = all-both es fs h.said k.said;
}

-- the lines of the members so far, and of one more
pub adds-member : (ms : List Member) (i : ℕ) (m : Member) (old new : List ℕ) → i < length ms → m ≡ get_or ms i m → AddsLines [] (concat (map edits_of (take i ms))) old
    → AddsLines old (edits_of m) new → AddsLines [] (concat (map edits_of (take (i + 1) ms))) new
adds-member ms i m old new within is h k =
    let before = map edits_of (take i ms) in
    let more : concat (map edits_of (take (i + 1) ms)) ≡ concat before ++ edits_of m =
    ap (λ l. concat l) (map_more edits_of ms i m within)
    ∙ (concat-append before (edits_of (get_or ms i m) ∷ [])
    ∙ (ap (λ l. concat before ++ l) (append-nil (edits_of (get_or ms i m))) ∙ ap (λ (x : Member). concat before ++ edits_of x) (sym is))) in
    subst (λ es. AddsLines [] es new) (sym more) (adds-both (concat before) (edits_of m) [] old new h k)

pub adds-edit : {A : _} (es : List (code.Edit A)) (i : ℕ) (e : code.Edit A) (first old new : List ℕ) → i < length es → e ≡ get_or es i e → AddsLines first (map edit_of (take i es)) old
    → AddsLines old (edit_of e ∷ []) new → AddsLines first (map edit_of (take (i + 1) es)) new
adds-edit es i e first old new within is h k =
    let before = map edit_of (take i es) in
    let more : map edit_of (take (i + 1) es) ≡ before ++ edit_of e ∷ [] =
    map_more edit_of es i e within ∙ ap (λ x. before ++ edit_of x ∷ []) (sym is) in
    subst (λ l. AddsLines first l new) (sym more) (adds-both before (edit_of e ∷ []) first old new h k)

-- ---- their run

-- edits that are made, outside a group: what they come to
record IsDone (did : Executed) (to : List ℕ) : Type 0 where
  report : did.report ≡ []
  refused : did.refused ≡ 0
  text : did.shown.text ≡ to
  begun : did.shown.begun ≡ None

-- what is shown after an edit outside a group
abbrev outside : (s : Shown (List ℕ)) → (text : List ℕ) → Shown (List ℕ)
outside s u = record s { text = u; back = take s.depth (s.text ∷ s.back); forward = []; begun = None }

executed-edits : (n : ℕ) (es : List Edit) (s : Shown (List ℕ)) (to : List ℕ) → s.begun ≡ None → made_of es s.text ≡ Some to
    → IsDone (executed_steps false (map Alone (at_lines n es)) s) to
executed-edits n [] s to none h = record { report = refl; refused = refl; text = cc; begun = none }
executed-edits n (e ∷ es) s to none h =
    go (edited e s.text) s.begun none h
    (λ u k. executed-edits (n + length (script_lines (script_of e))) es (outside s u) to refl k)
  where
    go : (r : Result (List ℕ) Refusal) (begun : Option (List ℕ)) → begun ≡ None → made_next (λ x. made_of es x) r ≡ Some to
        → ((u : List ℕ) → made_of es u ≡ Some to → IsDone (executed_steps false (map Alone (at_lines (n + length (script_lines (script_of e))) es)) (outside s u)) to)
        → IsDone (steps_next false (record s { begun = begun }) (λ x. executed_steps false (map Alone (at_lines (n + length (script_lines (script_of e))) es)) x)
        (alone_end n (elim r as (λ x. Answer) [ Ok new ↦ Ok (shown_edited new (record s { begun = begun })) | Err q ↦ Err (EditRefused q) ]))) to
    go (Ok u) None is k on = on u k
    go (Ok u) (Some b) is k on = absurd (cc)
    go (Err q) begun is k on = absurd (cc)

-- they put out the text that they lead to
done-run : (did : Executed) (to : List ℕ) → IsDone did to → result_after false did ≡ done_with to
done-run did to h = go did.report did.refused did.shown.begun h.report h.refused h.begun
  where
    go : (report : List ℕ) (refused : ℕ) (begun : Option (List ℕ)) → report ≡ [] → refused ≡ 0 → begun ≡ None
        → result_after false (record did { report = report; refused = refused; shown = record did.shown { begun = begun } }) ≡ done_with to
    go [] zero None a b c = ap done_with h.text
    go [] zero (Some t) a b c = absurd (cc)
    go [] (suc n) begun a b c = absurd (omega (arith, b))
    go (x ∷ report) refused begun a b c = absurd (cc)

-- ---- a script of edits

-- the lines of edits that are made are a script that makes them
pub script-makes : (es : List Edit) (script from to : List ℕ) → AddsLines [] es script → made_of es from ≡ Some to → MakesText script from to
script-makes es script from to lines made = (
  map Alone (at_lines 1 es),
  subst (λ t. IsScript t (map Alone (at_lines 1 es))) (sym lines.text) (said-edits 1 es lines.said),
  λ depth. done-run (executed_steps false (map Alone (at_lines 1 es)) (shown_opened depth from)) to (executed-edits 1 es (shown_opened depth from) to refl made),
)
