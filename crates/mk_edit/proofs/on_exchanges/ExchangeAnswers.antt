-- What the calls of the plan of an exchange of whole lines answer, and what follows for the plan.
use Rattle.std.proofs.Common.{◌≡◌, sym, ap, ◌∙◌, subst, arith, ℕ, ◌+◌, ◌≤◌, ◌&&◌, ◌==◌, Bool, true, false, not, List, ◌++◌, length, length-append, replicate, Some, inl, inr}
use Rattle.std.specs.Prelude.{◌⊎◌, nat_lt, Ok, Err}
use Rattle.std.proofs.lemmas.List.{length-replicate}
use Rattle.mk_lines.specs.Limits.{max_text}
use Rattle.mk_lines.specs.LogicalLines.{logical_lines}
use Rattle.mk_class.specs.Contexts.{Context}
use Rattle.mk_class.specs.declared.context.RuleFlag.{RuleFlag}
use Rattle.mk_tree.specs.Counting.{AreCounted}
use Rattle.mk_tree.specs.Documents.{IsFaithful, context_of}
use Rattle.mk_tree.specs.Leaning.{is_same_flag}
use Rattle.mk_tree.specs.LocatedLines.{LocatedLine, located_text, size_of, last_line}
use Rattle.mk_tree.specs.Origins.{lines_between}
use Rattle.mk_edit_language.specs.Edits.{Site, ExchangeLines}
use Rattle.mk_edit_language.specs.Causes.{where_holds}
use Rattle.mk_edit_language.specs.Costs.{cost}
use Rattle.mk_edit_language.specs.ExchangeCauses.{is_exchange_misread, exchange_leans}
use Rattle.mk_edit_language.specs.LineExchanges.{block_text, with_line_ends}
use Rattle.mk_edit_language.specs.Refusals.{spans}
use Rattle.mk_edit_language.specs.declared.refusal.Refusal.{Refusal}
use Rattle.mk_edit_language.specs.declared.refusal.Refusal.TheVariants.{NoMemory, OpenLine, OpenDefine, TooLong, Misread}
use Rattle.mk_edit_parts.specs.LineRanges.{is_led_first_located}
use Rattle.mk_edit_parts.specs.SitesFound.{IsSited}
use Rattle.mk_edit_parts.specs.declared.window.Window.{Window}
use Rattle.mk_patch.specs.Moves.{Move, MovesWithRoom, TakeOut}
use Rattle.mk_edit.specs.Insertions.{is_open_line}
use Rattle.mk_edit.specs.Planned.{IsRefusal, Plans}
use Rattle.mk_edit.specs.PlannedMoves.{ending_moves, follows_unended}
use Rattle.mk_edit.specs.ExchangePlans.{AreTooDeepIn, clearing_moves, ending_length, ends_for, is_bottom_site, lines_in, putting_moves, window_stretch}
use Rattle.mk_edit.specs.declared.new_lines.LineEnds.{LineEnds}
use Rattle.mk_edit.proofs.on_exchanges.ExchangeCauses.{IsClear, clear-unrefused, deep-refused, exchange-accepted, lines-there, long-told, open_define-cause, open_line-cause}
use Rattle.mk_edit.proofs.on_exchanges.ExchangePlans.{exchange-cost, exchange-planned}

-- ---- the room of the patch

ending-few : (b : Bool) (ls : List LocatedLine) → length (ending_moves b ls) ≤ 1
ending-few true ls = omega arith
ending-few false ls = omega arith

-- the steps that take the lines out have room, and so have those that put the new ones in
pub room-taken : (b : Bool) (ls : List LocatedLine) (count n : ℕ) (p : MovesWithRoom) → p ≡ record { moves = ending_moves b ls; room = (count + n) + 1 } → length p.moves + count ≤ p.room
room-taken b ls count n p h = rw h (omega (arith, ending-few b ls))

pub room-put : (b : Bool) (ls : List LocatedLine) (at count n : ℕ) (p q : MovesWithRoom) → p ≡ record { moves = ending_moves b ls; room = (count + n) + 1 } → q ≡ record p { moves = p.moves ++ replicate count (TakeOut at) } → length q.moves + n ≤ q.room
room-put b ls at count n p q h k =
    let moves : q.moves ≡ ending_moves b ls ++ replicate count (TakeOut at) = ap (λ (z : MovesWithRoom). z.moves) k ∙ ap (λ (z : MovesWithRoom). z.moves ++ replicate count (TakeOut at)) h in
    let room : q.room ≡ (count + n) + 1 = ap (λ (z : MovesWithRoom). z.room) k ∙ ap (λ (z : MovesWithRoom). z.room) h in
    let out : Move = TakeOut at in
    omega (arith, ending-few b ls, ap length moves, length-append (ending_moves b ls) (replicate count out), length-replicate count out, room)

-- the moves before the new lines are put in
pub cleared : (ls : List LocatedLine) (at count n : ℕ) (p q : MovesWithRoom) → p ≡ record { moves = ending_moves (follows_unended ls at) ls; room = (count + n) + 1 } → q ≡ record p { moves = p.moves ++ replicate count (TakeOut at) }
    → q.moves ≡ clearing_moves ls at count
cleared ls at count n p q h k = ap (λ (z : MovesWithRoom). z.moves) k ∙ ap (λ (z : MovesWithRoom). z.moves ++ replicate count (TakeOut at)) h

-- ---- whether lines lean, by equal flags and an equal prefix

pub leans-same : (ls : List LocatedLine) (b : Bool) (f g h k : RuleFlag) (p q : ℕ) → f ≡ h → g ≡ k → p ≡ q → b ≡ (not (is_same_flag f g) && is_led_first_located p ls) → b ≡ (not (is_same_flag h k) && is_led_first_located q ls)
leans-same ls b f g h k p q x y z e = rw (← x, ← y, ← z) e

-- ---- the plan, by what its calls answer

module _ (s : Site) (ts : List (List ℕ)) (ls : List LocatedLine) (w : Window) (f : IsFaithful ls) (S : IsSited s ts ls w) where
  -- no cause holds but perhaps those that the new lines decide
  pub all-clear : (a b c : Bool) (gone : ℕ) (ends : LineEnds) → a ≡ ((w.place.at == length ls) && is_open_line (last_line ls)) → a ≡ false → b ≡ (is_bottom_site s && nat_lt 0 w.place.context.defines) → b ≡ false
      → gone ≡ size_of (lines_between w.place.at w.count ls) → ends ≡ ends_for (located_text ls) ts (window_stretch ls w)
      → c ≡ nat_lt (max_text + gone) (size_of ls + (ending_length ls w.place.at + length (with_line_ends ends.each ends.last ts))) → c ≡ false → IsClear s ts ls w f S
  all-clear a b c gone ends line i define j g e long k = record {
    line = open_line-cause s ts ls w f S a line ∙ ap (λ z. where_holds z OpenLine) i;
    define = open_define-cause s ts ls w f S b define ∙ ap (λ z. where_holds z OpenDefine) j;
    long = long-told s ts ls w gone ends c f S g e long ∙ ap (λ z. where_holds z TooLong) k;
  }

  -- the text of the new lines
  pub text-there : (ends : LineEnds) → ends ≡ ends_for (located_text ls) ts (window_stretch ls w) → with_line_ends ends.each ends.last ts ≡ block_text (located_text ls) ts S.stretch
  text-there ends e = ap (λ (z : LineEnds). with_line_ends z.each z.last ts) (e ∙ ap (ends_for (located_text ls) ts) (lines-there s ts ls w f S).window_is)

  -- a refusal when the new lines were read
  pub new-refused : (text : List ℕ) (r : Refusal) → text ≡ block_text (located_text ls) ts S.stretch → IsClear s ts ls w f S → (r ≡ NoMemory) ⊎ ((r ≡ Misread) × AreTooDeepIn w.place.context text) → IsRefusal (located_text ls) (ExchangeLines s ts) r
  new-refused text r is C (inl n) = inr (n, clear-unrefused s ts ls w f S C)
  new-refused text r is C (inr (k, d)) =
      inl (deep-refused s ts ls w f S C (subst (AreTooDeepIn (context_of S.stretch.above)) is (subst (λ (z : Context). AreTooDeepIn z text) (sym S.meant.context_is) d)) ∙ ap Err (sym k))

  -- as many lines were read as the edit costs
  pub number-read : (text : List ℕ) → text ≡ block_text (located_text ls) ts S.stretch → length (logical_lines text) ≡ cost (located_text ls) (ExchangeLines s ts)
  number-read text is = ap (λ z. length (logical_lines z)) is ∙ exchange-cost s ts ls w S

  -- the edit is refused after the new lines were read
  pub refused-read : (r : Refusal) (before after n : ℕ) → spans (located_text ls) (ExchangeLines s ts) ≡ Err r → n ≡ cost (located_text ls) (ExchangeLines s ts) → after ≤ before + n → before ≤ after → Plans (ExchangeLines s ts) ls before after (Err r)
  refused-read r before after n h k few forward = record { planned = tt; refused = inl h; counted = tt; few_read = omega (arith, k, few); forward = forward }

  -- the patch is made
  pub made : (text : List ℕ) (moves : List Move) (before after : ℕ) → IsClear s ts ls w f S → is_exchange_misread (located_text ls) ts (Some S.stretch) ≡ false → exchange_leans (located_text ls) ts (Some S.stretch) ≡ false → text ≡ block_text (located_text ls) ts S.stretch
      → moves ≡ clearing_moves ls w.place.at w.count ++ putting_moves w.place.at (lines_in w.place.context text)
      → AreCounted before (length (logical_lines text)) after → after ≤ before + length (logical_lines text) → before ≤ after → Plans (ExchangeLines s ts) ls before after (Ok moves)
  made text moves before after C m l is h counted few forward =
      let n = number-read text is in
      let P = exchange-planned s ts ls w _ f S (exchange-accepted s ts ls w f S C m l) C.line in
      record {
        planned = rw (h, is) P;
        refused = tt;
        counted = subst (λ k. AreCounted before k after) n counted;
        few_read = omega (arith, n, few);
        forward = forward;
      }
