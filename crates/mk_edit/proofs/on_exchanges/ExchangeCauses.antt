-- The causes of an exchange of whole lines that the lines around its site and the new lines decide, by their tests on a document.
use Rattle.std.proofs.Common.{◌≡◌, refl, sym, ap, ◌∙◌, subst, arith, ℕ, ◌+◌, ◌<◌, ◌==◌, ◌&&◌, ◌||◌, Bool, true, false, not, List, [], ◌∷◌, ◌++◌, length, length-append, take, drop, Option, Some, None, inl, inr}
use Rattle.std.specs.Prelude.{nat_lt, if◌then◌else◌, Ok, Err}
use Rattle.std.specs.List.{list_any}
use Rattle.std.proofs.lemmas.Bool.{lt-ltb, ltb-true}
use Rattle.std.proofs.lemmas.List.{length-map, map-append}
use Rattle.std.proofs.lemmas.List.Folds.{list_any-append}
use Rattle.std.proofs.Math.Seq.{take-append_seam, drop-append_seam, drop-append-add}
use Rattle.mk_lines.specs.Limits.{max_text}
use Rattle.mk_lines.specs.LogicalLines.{logical_lines, is_open, is_continued, has_no_line_end, ends_line, is_open}
use Rattle.mk_lines.specs.PhysicalLines.{line_end, line_end_bytes, file_line_end, ends_with_carriage_return}
use Rattle.mk_lines.proofs.on_lines.LineEndLemmas.{Ends-ends_line}
use Rattle.mk_lines.proofs.on_cells.LineCells.{one_line-not_empty}
use Rattle.mk_class.specs.ListTests.{last_passes}
use Rattle.mk_class.specs.Contexts.{Context, max_conditionals}
use Rattle.mk_class.specs.ClassedLines.{ClassedLine, classed_lines, context_after_lines, is_led_first}
use Rattle.mk_tree.specs.Documents.{IsFaithful, text_of, context_of, most_conditionals}
use Rattle.mk_tree.specs.Leaning.{is_same_flag}
use Rattle.mk_tree.specs.NewLineEnds.{missing_line_end}
use Rattle.mk_tree.specs.LocatedLines.{LocatedLine, located_line, located_lines, located_text, size_of, last_line}
use Rattle.mk_tree.specs.Origins.{lines_between}
use Rattle.mk_tree.proofs.on_changes.Sizes.{size_of-text}
use Rattle.mk_tree.proofs.on_documents.LinesInText.{AreClassed-classed, line-in_text, run-in_text}
use Rattle.mk_edit_language.specs.Edits.{Site, AtPlace, BeforeRun, AfterRun, OfRun, OfRuleRun, Top, Bottom, BeforeVar, AfterVar, AfterLastVar, BeforeRule, AfterRule, Edit, ExchangeLines}
use Rattle.mk_edit_language.specs.Causes.{where_holds}
use Rattle.mk_edit_language.specs.EditSpans.{spans_of, where_found}
use Rattle.mk_edit_language.specs.ExchangeCauses.{agree_but_for_flag, is_exchange_misread, exchange_leans}
use Rattle.mk_edit_language.specs.Lengths.{bytes_taken, bytes_put}
use Rattle.mk_edit_language.specs.LineCauses.{follows_open_line, too_long}
use Rattle.mk_edit_language.specs.LineExchanges.{block_text, exchange_span, new_lines, with_line_ends}
use Rattle.mk_edit_language.specs.LineRuns.{site_found}
use Rattle.mk_edit_language.specs.Refusals.{causes, first_cause, spans}
use Rattle.mk_edit_language.specs.Stretches.{Stretch, bottom}
use Rattle.mk_edit_language.specs.declared.refusal.Refusal.{Refusal}
use Rattle.mk_edit_language.specs.declared.refusal.Refusal.TheVariants.{OpenLine, OpenDefine, TooLong, Misread, Leans}
use Rattle.mk_edit_parts.specs.LineRanges.{is_led_first_located}
use Rattle.mk_edit_parts.specs.SitesFound.{IsSited, causes_of_lines}
use Rattle.mk_edit_parts.specs.declared.window.Window.{Window}
use Rattle.mk_edit_parts.proofs.CauseLemmas.{passed, holds, refused, unrefused}
use Rattle.mk_edit_parts.proofs.on_finding.LeanLemmas.{led_first-located}
use Rattle.mk_edit_parts.proofs.on_line_runs.SiteCauses.{causes-left}
use Rattle.mk_patch.proofs.on_moves.ExchangeLemmas.{append-one}
use Rattle.mk_edit.specs.Insertions.{is_open_line}
use Rattle.mk_edit.specs.Planned.{IsUnrefused}
use Rattle.mk_edit.specs.PlannedMoves.{follows_unended}
use Rattle.mk_patch.specs.Moves.{MovesWithRoom}
use Rattle.mk_edit.specs.ExchangePlans.{AreReadInto, AreTooDeepIn, ending_length, ends_for, end_before, end_after_all, is_bottom_site, lines_in, window_stretch}
use Rattle.mk_edit.specs.declared.lines_end.LinesEnd.{LinesEnd}
use Rattle.mk_edit.specs.declared.new_lines.LineEnds.{LineEnds}
use Rattle.mk_edit.proofs.on_plans.CausePlans.{long-said}
use Rattle.mk_edit.proofs.on_plans.NewLinePlans.{last-apart, last_passes-last}
use Rattle.mk_edit.proofs.on_plans.RemovalPlans.{stretch-is}
use Rattle.mk_edit.proofs.on_exchanges.ExchangeMoves.{follows-stretch, unended-told}
use Rattle.mk_edit.proofs.on_exchanges.LinesLeft.{is_of_prefix, end-told}

-- ---- the lines of a window

-- the lines that go, and those below them
pub record AreThere (ls : List LocatedLine) (w : Window) (r : Stretch) : Type 0 where
  pub window_is : window_stretch ls w ≡ r
  pub going : lines_between w.place.at w.count ls ≡ located_lines r.lines
  pub below : drop (w.place.at + w.count) ls ≡ located_lines r.below

pub lines-there : (s : Site) (ts : List (List ℕ)) (ls : List LocatedLine) (w : Window) → IsFaithful ls → (S : IsSited s ts ls w) → AreThere ls w S.stretch
lines-there s ts ls w f S =
    let r = S.stretch in
    let M = S.meant in
    let LA = located_lines r.above in
    let LL = located_lines r.lines in
    let LB = located_lines r.below in
    let shown : ls ≡ LA ++ (LL ++ LB) = f ∙ (ap located_lines M.stretch_is ∙ (map-append located_line r.above (r.lines ++ r.below) ∙ ap (λ z. LA ++ z) (map-append located_line r.lines r.below))) in
    let at : w.place.at ≡ length LA = sym M.place_is ∙ sym (length-map r.above located_line) in
    let count : w.count ≡ length LL = sym M.count_is ∙ sym (length-map r.lines located_line) in
    let from : drop w.place.at ls ≡ LL ++ LB = ap (drop w.place.at) shown ∙ (ap (λ n. drop n (LA ++ (LL ++ LB))) at ∙ drop-append_seam LA (LL ++ LB)) in
    record {
      window_is = stretch-is (classed_lines (located_text ls)) r w.place.at w.count M.stretch_is M.place_is M.count_is;
      going = ap (take w.count) from ∙ (ap (λ n. take n (LL ++ LB)) count ∙ take-append_seam LL LB);
      below =
          ap (drop (w.place.at + w.count)) shown
          ∙ (ap (λ n. drop (n + w.count) (LA ++ (LL ++ LB))) at
          ∙ (drop-append-add LA (LL ++ LB) w.count ∙ (ap (λ n. drop n (LL ++ LB)) count ∙ drop-append_seam LL LB)));
    }

-- ---- OpenLine

-- a line with another below it is not open
closed-line : (x : List ℕ) (b : ℕ) (r : List ℕ) → x ≡ b ∷ r → ends_line x ≡ true → is_open x ≡ false
closed-line x b r e h =
    ap is_open e ∙ go (has_no_line_end (line_end (b ∷ r))) (is_continued (b ∷ r)) (ends_with_carriage_return (b ∷ r)) (ap ends_line (sym e) ∙ h)
  where
    go : (n c q : Bool) → (not n && not c) ≡ true → (c || (n && q)) ≡ false
    go true c q h = absurd (cc)
    go false true q h = absurd (cc)
    go false false q h = refl

closed-above : (t : List ℕ) (above : List ClassedLine) (l : ClassedLine) (rest : List ClassedLine) → classed_lines t ≡ above ++ l ∷ rest → last_passes (λ l. is_open l.bytes) above ≡ false
closed-above t [] l rest h = refl
closed-above t (x ∷ xs) l rest h =
    let a = last-apart x xs in
    let place = line-in_text t a.front a.last (l ∷ rest) (h ∙ (ap (λ (z : List ClassedLine). z ++ l ∷ rest) a.is ∙ append-one a.front a.last (l ∷ rest))) in
    let filled = one_line-not_empty a.last.bytes place.one in
    ap (last_passes (λ (z : ClassedLine). is_open z.bytes)) a.is
    ∙ (last_passes-last (λ (z : ClassedLine). is_open z.bytes) a.front a.last ∙ closed-line a.last.bytes filled.0 filled.1 filled.2 (Ends-ends_line a.last.bytes place.ends))

open-told : (ls : List LocatedLine) (r : Stretch) (at : ℕ) → IsFaithful ls → classed_lines (located_text ls) ≡ r.above ++ (r.lines ++ r.below) → length r.above ≡ at
    → ((at == length ls) && is_open_line (last_line ls)) ≡ follows_open_line (Some r)
open-told ls r at f h n =
    ap (λ z. (at == length z) && is_open_line (last_line z)) (f ∙ ap located_lines h)
    ∙ follows-stretch is_open_line (λ l. is_open l.bytes) refl (λ l. refl) r.above r.lines r.below at n
    (λ l run e k. closed-above (located_text ls) r.above l (run ++ r.below) (h ∙ ap (λ z. r.above ++ (z ++ r.below)) e))

-- ---- OpenDefine

-- the second of some causes
abbrev second : List (Option Refusal) → Option Refusal
second [] = None
second (c ∷ []) = None
second (c ∷ d ∷ cs) = d

define-told : (t : List ℕ) (s : Site) (ts : List (List ℕ)) (r : Stretch) (c : Context) (b : Bool) → site_found (classed_lines t) s ≡ Some r → context_of r.above ≡ c → b ≡ (is_bottom_site s && nat_lt 0 c.defines)
    → second (causes_of_lines t s ts) ≡ where_holds b OpenDefine
define-told t (AtPlace Top) ts r c b found k h = ap (λ z. where_holds z OpenDefine) (sym h)
define-told t (AtPlace Bottom) ts r c b found k h =
    let e : bottom (classed_lines t) ≡ r = cc in
    let same : (context_of (classed_lines t)).defines ≡ c.defines = ap (λ (z : Stretch). (context_of z.above).defines) e ∙ ap (λ (z : Context). z.defines) k in
    ap (λ n. where_holds (nat_lt 0 n) OpenDefine) same ∙ ap (λ z. where_holds z OpenDefine) (sym h)
define-told t (AtPlace (BeforeVar nth n)) ts r c b found k h = ap (λ z. where_holds z OpenDefine) (sym h)
define-told t (AtPlace (AfterVar nth n)) ts r c b found k h = ap (λ z. where_holds z OpenDefine) (sym h)
define-told t (AtPlace (AfterLastVar n)) ts r c b found k h = ap (λ z. where_holds z OpenDefine) (sym h)
define-told t (AtPlace (AfterRule nth g)) ts r c b found k h = ap (λ z. where_holds z OpenDefine) (sym h)
define-told t (OfRuleRun nth g) ts r c b found k h = ap (λ z. where_holds z OpenDefine) (sym h)
define-told t (AtPlace (BeforeRule nth g)) ts r c b found k h = ap (λ z. where_holds z OpenDefine) (sym h)
define-told t (BeforeRun nth o) ts r c b found k h = ap (λ z. where_holds z OpenDefine) (sym h)
define-told t (AfterRun nth o) ts r c b found k h = ap (λ z. where_holds z OpenDefine) (sym h)
define-told t (OfRun nth o) ts r c b found k h = ap (λ z. where_holds z OpenDefine) (sym h)

-- ---- TooLong

-- lines have the bytes of their text
pub size-lines : (ls : List ClassedLine) → size_of (located_lines ls) ≡ length (text_of ls)
size-lines [] = refl
size-lines (l ∷ ls) = ap (λ n. length l.bytes + n) (size-lines ls) ∙ sym (length-append l.bytes (text_of ls))

missing-length : (e : List ℕ) (b c : Bool) → b ≡ c → length (if c then e else []) ≡ (if b then length e else 0)
missing-length e true c h = ap (λ z. length (if z then e else [])) (sym h)
missing-length e false c h = ap (λ z. length (if z then e else [])) (sym h)

pub long-told : (s : Site) (ts : List (List ℕ)) (ls : List LocatedLine) (w : Window) (gone : ℕ) (ends : LineEnds) (b : Bool) → IsFaithful ls → (S : IsSited s ts ls w)
    → gone ≡ size_of (lines_between w.place.at w.count ls) → ends ≡ ends_for (located_text ls) ts (window_stretch ls w)
    → b ≡ nat_lt (max_text + gone) (size_of ls + (ending_length ls w.place.at + length (with_line_ends ends.each ends.last ts)))
    → too_long (located_text ls) (spans_of (located_text ls) (classed_lines (located_text ls)) (ExchangeLines s ts)) ≡ where_holds b TooLong
long-told s ts ls w gone ends b f S g e h =
    let t = located_text ls in
    let cs = classed_lines t in
    let r = S.stretch in
    let M = S.meant in
    let W = lines-there s ts ls w f S in
    let missing = missing_line_end (file_line_end t) r.above r.below in
    let spans_are : spans_of t cs (ExchangeLines s ts) ≡ exchange_span t ts r = ap (where_found (exchange_span t ts)) S.found_is in
    let taken : bytes_taken (spans_of t cs (ExchangeLines s ts)) ≡ gone =
    ap bytes_taken spans_are ∙ omega (arith, g, ap size_of W.going, size-lines r.lines) in
    let text : with_line_ends ends.each ends.last ts ≡ block_text t ts r =
    ap (λ (z : LineEnds). with_line_ends z.each z.last ts) (e ∙ ap (ends_for t ts) W.window_is) in
    let ending : length missing ≡ ending_length ls w.place.at = missing-length (line_end_bytes (file_line_end t)) (follows_unended ls w.place.at) _ (unended-told ls r.above r.lines r.below w.place.at f M.stretch_is M.place_is) in
    let put : bytes_put (spans_of t cs (ExchangeLines s ts)) ≡ ending_length ls w.place.at + length (with_line_ends ends.each ends.last ts) =
    ap bytes_put spans_are ∙ omega (arith, length-append missing (block_text t ts r), ending, ap length text) in
    long-said t (ExchangeLines s ts) gone _ taken put
    ∙ ap (λ z. where_holds z TooLong) (ap (λ n. nat_lt (max_text + gone) (n + (ending_length ls w.place.at + length (with_line_ends ends.each ends.last ts)))) (sym (size_of-text ls)) ∙ sym h)

-- ---- Misread and Leans

few-told : (n : ℕ) → (max_conditionals < n → ⊥) → nat_lt max_conditionals n ≡ false
few-told n h = go (nat_lt max_conditionals n) refl
  where
    go : (b : Bool) → nat_lt max_conditionals n ≡ b → nat_lt max_conditionals n ≡ false
    go true k = absurd (h (ltb-true max_conditionals n k))
    go false k = k

-- What the lines that go and the new lines leave below them, by the text.
pub record AreLeft (t : List ℕ) (ts : List (List ℕ)) (r : Stretch) (old new : LinesEnd) : Type 0 where
  pub old_is : old ≡ record { context = context_after_lines (context_of r.above) r.lines; is_of_prefix = list_any (λ l. is_of_prefix l.class) r.lines }
  pub new_is : new ≡ record { context = context_after_lines (context_of r.above) (new_lines t ts r); is_of_prefix = list_any (λ l. is_of_prefix l.class) (new_lines t ts r) }
  pub shallow : nat_lt max_conditionals (most_conditionals (context_of r.above).conditionals (new_lines t ts r)) ≡ false

pub misread-told : (t : List ℕ) (ts : List (List ℕ)) (r : Stretch) (old new : LinesEnd) → AreLeft t ts r old new
    → ((old.is_of_prefix || new.is_of_prefix) || not (agree_but_for_flag old.context new.context)) ≡ is_exchange_misread t ts (Some r)
misread-told t ts r old new L =
    let c = context_of r.above in
    let n = new_lines t ts r in
    let P : ClassedLine → Bool = λ l. is_of_prefix l.class in
    let agree = not (agree_but_for_flag (context_after_lines c r.lines) (context_after_lines c n)) in
    ap (λ (z : LinesEnd). (z.is_of_prefix || new.is_of_prefix) || not (agree_but_for_flag z.context new.context)) L.old_is
    ∙ (ap (λ (z : LinesEnd). (list_any P r.lines || z.is_of_prefix) || not (agree_but_for_flag (context_after_lines c r.lines) z.context)) L.new_is
    ∙ (ap (λ z. z || agree) (sym (list_any-append P r.lines n)) ∙ ap (λ z. z || (list_any P (r.lines ++ n) || agree)) (sym L.shallow)))

pub leans-told : (ls : List LocatedLine) (w : Window) (t : List ℕ) (ts : List (List ℕ)) (r : Stretch) (old new : LinesEnd) → AreThere ls w r → AreLeft t ts r old new
    → (not (is_same_flag old.context.flag new.context.flag) && is_led_first_located old.context.prefix (drop (w.place.at + w.count) ls)) ≡ exchange_leans t ts (Some r)
leans-told ls w t ts r old new W L =
    let c = context_of r.above in
    let led : is_led_first_located old.context.prefix (drop (w.place.at + w.count) ls) ≡ is_led_first old.context.prefix r.below = ap (is_led_first_located old.context.prefix) W.below ∙ led_first-located old.context.prefix r.below in
    ap (λ z. not (is_same_flag old.context.flag new.context.flag) && z) led
    ∙ (ap (λ (z : LinesEnd). not (is_same_flag z.context.flag new.context.flag) && is_led_first z.context.prefix r.below) L.old_is
    ∙ ap (λ (z : LinesEnd). not (is_same_flag (context_after_lines c r.lines).flag z.context.flag) && is_led_first (context_after_lines c r.lines).prefix r.below) L.new_is)

-- ---- the causes in their order

module _ (s : Site) (ts : List (List ℕ)) (ls : List LocatedLine) (w : Window) (f : IsFaithful ls) (S : IsSited s ts ls w) where
  abbrev t : List ℕ
  t = located_text ls

  abbrev edit : Edit
  edit = ExchangeLines s ts

  abbrev lines : List ClassedLine
  lines = classed_lines t

  causes-are : first_cause (causes t lines edit) ≡ first_cause (causes_of_lines t s ts)
  causes-are = causes-left t s ts S.unrefused

  -- the first causes, by their tests
  pub open_line-cause : (b : Bool) → b ≡ ((w.place.at == length ls) && is_open_line (last_line ls)) → where_holds (follows_open_line (site_found lines s)) OpenLine ≡ where_holds b OpenLine
  open_line-cause b h =
      ap (λ z. where_holds (follows_open_line z) OpenLine) S.found_is
      ∙ ap (λ z. where_holds z OpenLine) (sym (h ∙ open-told ls S.stretch w.place.at f S.meant.stretch_is S.meant.place_is))

  pub open_define-cause : (b : Bool) → b ≡ (is_bottom_site s && nat_lt 0 w.place.context.defines) → second (causes_of_lines t s ts) ≡ where_holds b OpenDefine
  open_define-cause b h = define-told t s ts S.stretch w.place.context b S.found_is S.meant.context_is h

  -- no cause holds but perhaps those that the new lines decide
  pub record IsClear : Type 0 where
    pub line : where_holds (follows_open_line (site_found lines s)) OpenLine ≡ None
    pub define : second (causes_of_lines t s ts) ≡ None
    pub long : too_long t (spans_of t lines edit) ≡ None

  pub open_line-refused : where_holds (follows_open_line (site_found lines s)) OpenLine ≡ Some OpenLine → spans t edit ≡ Err OpenLine
  open_line-refused h = refused t edit OpenLine (causes-are ∙ holds _ _ OpenLine h)

  pub open_define-refused : where_holds (follows_open_line (site_found lines s)) OpenLine ≡ None → second (causes_of_lines t s ts) ≡ Some OpenDefine → spans t edit ≡ Err OpenDefine
  open_define-refused h k = refused t edit OpenDefine (causes-are ∙ passed _ _ (Some OpenDefine) h (holds _ _ OpenDefine k))

  pub too_long-refused : where_holds (follows_open_line (site_found lines s)) OpenLine ≡ None → second (causes_of_lines t s ts) ≡ None → too_long t (spans_of t lines edit) ≡ Some TooLong → spans t edit ≡ Err TooLong
  too_long-refused h k l = refused t edit TooLong (causes-are ∙ passed _ _ (Some TooLong) h (passed _ _ (Some TooLong) k (holds _ _ TooLong l)))

  causes-last : IsClear → first_cause (causes t lines edit) ≡ first_cause (where_holds (is_exchange_misread t ts (Some S.stretch)) Misread ∷ where_holds (exchange_leans t ts (Some S.stretch)) Leans ∷ [])
  causes-last C =
      causes-are
      ∙ (passed _ _ _ C.line (passed _ _ _ C.define (passed _ _ _ C.long refl))
      ∙ ap (λ z. first_cause (where_holds (is_exchange_misread t ts z) Misread ∷ where_holds (exchange_leans t ts z) Leans ∷ [])) S.found_is)

  pub misread-refused : IsClear → is_exchange_misread t ts (Some S.stretch) ≡ true → spans t edit ≡ Err Misread
  misread-refused C h = refused t edit Misread (causes-last C ∙ holds _ _ Misread (ap (λ z. where_holds z Misread) h))

  pub leans-refused : IsClear → is_exchange_misread t ts (Some S.stretch) ≡ false → exchange_leans t ts (Some S.stretch) ≡ true → spans t edit ≡ Err Leans
  leans-refused C h k = refused t edit Leans (causes-last C ∙ passed _ _ (Some Leans) (ap (λ z. where_holds z Misread) h) (holds _ _ Leans (ap (λ z. where_holds z Leans) k)))

  pub exchange-accepted : IsClear → is_exchange_misread t ts (Some S.stretch) ≡ false → exchange_leans t ts (Some S.stretch) ≡ false → spans t edit ≡ Ok (spans_of t lines edit)
  exchange-accepted C h k = unrefused t edit (causes-last C ∙ passed _ _ None (ap (λ z. where_holds z Misread) h) (passed _ _ None (ap (λ z. where_holds z Leans) k) refl))

  -- so a growth may be refused
  pub clear-unrefused : IsClear → IsUnrefused t edit
  clear-unrefused C = go (is_exchange_misread t ts (Some S.stretch)) (exchange_leans t ts (Some S.stretch)) refl refl
    where
      go : (m l : Bool) → is_exchange_misread t ts (Some S.stretch) ≡ m → exchange_leans t ts (Some S.stretch) ≡ l → IsUnrefused t edit
      go true l h k = inr (inl (misread-refused C h))
      go false true h k = inr (inr (tt, leans-refused C h k))
      go false false h k = inl (spans_of t lines edit, exchange-accepted C h k)

  -- new lines that are too deep are misread
  pub deep-refused : IsClear → max_conditionals < most_conditionals (context_of S.stretch.above).conditionals (new_lines t ts S.stretch) → spans t edit ≡ Err Misread
  deep-refused C h =
      misread-refused C (go _ (lt-ltb max_conditionals (most_conditionals (context_of S.stretch.above).conditionals (new_lines t ts S.stretch)) h))
    where
      go : (b : Bool) {q : Bool} → q ≡ true → (q || b) ≡ true
      go b h = ap (λ z. z || b) h

  -- What both leave below them.
  pub lines-left : (text : List ℕ) (old new : LinesEnd) (patch made : MovesWithRoom) → text ≡ block_text t ts S.stretch → old ≡ end_after_all (end_before w.place.context) (lines_between w.place.at w.count ls) → AreReadInto w.place text patch made new
      → AreLeft t ts S.stretch old new
  lines-left text old new patch made is o R =
      let r = S.stretch in
      let c = context_of r.above in
      let W = lines-there s ts ls w f S in
      let run = run-in_text t r.above r.lines r.below S.meant.stretch_is in
      record {
        old_is = o ∙ (ap (λ z. end_after_all (end_before w.place.context) z) W.going ∙ (ap (λ (z : Context). end_after_all (end_before z) (located_lines r.lines)) (sym S.meant.context_is) ∙ end-told (end_before c) r.lines run.run_classed));
        new_is =
            R.end_is
            ∙ (ap (λ z. end_after_all (end_before w.place.context) (lines_in w.place.context z)) is
            ∙ (ap (λ (z : Context). end_after_all (end_before z) (lines_in z (block_text t ts r))) (sym S.meant.context_is)
            ∙ end-told (end_before c) (new_lines t ts r) (AreClassed-classed c (logical_lines (block_text t ts r)))));
        shallow = few-told _ (λ h. R.shallow (deep h));
      }
    where
      deep : max_conditionals < most_conditionals (context_of S.stretch.above).conditionals (new_lines t ts S.stretch) → AreTooDeepIn w.place.context text
      deep h = subst (λ (z : Context). AreTooDeepIn z text) S.meant.context_is (subst (AreTooDeepIn (context_of S.stretch.above)) (sym is) h)
