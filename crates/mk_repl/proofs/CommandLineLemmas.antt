-- The lines of a command as they come, and the commands of a text.
use Rattle.std.proofs.Common.{◌≡◌, refl, sym, ap, ◌∙◌, subst, ℕ, Bool, true, false, List, [], ◌∷◌, ◌++◌, length, map, append_assoc, arith}
use Rattle.std.specs.Prelude.{◌≢◌, ◌==◌, Option, None, Some, ⊤, nat_lt}
use Rattle.std.specs.Borrow.{Bor}
use Rattle.std.specs.List.{AllByRecursion}
use Rattle.std.proofs.lemmas.Bool.{eqb-true, lt-ltb, ltb-true}
use Rattle.std.proofs.lemmas.List.{append-nil}
use Rattle.bstr.specs.Text.{without_terminator}
use Rattle.mk_lines.specs.Lists.{concat}
use Rattle.mk_lines.specs.PhysicalLines.{physical_lines}
use Rattle.mk_lines.proofs.on_lists.ListLemmas.{concat-append}
use Rattle.mk_script.specs.BlockWords.{block_words}
use Rattle.mk_script.specs.SeenFields.{bytes}
use Rattle.mk_repl.specs.InputLines.{before_line_feed, IsLong, IsShort, LosesLine}
use Rattle.mk_repl.specs.CommandLines.{AreRead, HasBlocks, IsUnread, LosesBelow, LosesCommand, Takes, commands_in, split_lines, waited_behind, words_below}
use Rattle.mk_repl.specs.declared.command_lines.CommandLines.{CommandLines}
use Rattle.mk_repl.specs.declared.command_lines.Unread.{Unread}
use Rattle.mk_repl.specs.declared.command_lines.Unread.TheVariants.{TooLong, NoMemory}

-- ---- the lines that came

HasBlocks-append : (lines more : List (List ℕ)) → HasBlocks lines → HasBlocks (lines ++ more)
HasBlocks-append [] more h = absurd h
HasBlocks-append (line ∷ lines) more h = h

short-append : (lines more : List (List ℕ)) → AllByRecursion IsShort lines → AllByRecursion IsShort more
    → AllByRecursion IsShort (lines ++ more)
short-append [] more h k = k
short-append (line ∷ lines) more h k = (h.0, short-append lines more h.1 k)

short-front : (lines more : List (List ℕ)) → AllByRecursion IsShort (lines ++ more) → AllByRecursion IsShort lines
short-front [] more h = tt
short-front (line ∷ lines) more h = (h.0, short-front lines more h.1)

short-back : (lines more : List (List ℕ)) → AllByRecursion IsShort (lines ++ more) → AllByRecursion IsShort more
short-back [] more h = h
short-back (line ∷ lines) more h = short-back lines more h.1

-- lines that are not read stay so
unread-more : (why : Unread) (lines more : List (List ℕ)) → IsUnread why lines → IsUnread why (lines ++ more)
unread-more TooLong lines more h = λ short. h (short-front lines more short)
unread-more NoMemory lines more h = HasBlocks-append lines more h

-- one line more that is read
read-more : (lines : List (List ℕ)) (line text : List ℕ) → IsShort line → AreRead lines text None
    → AreRead (lines ++ line ∷ []) (text ++ line) None
read-more lines line text short h = (
  short-append lines (line ∷ []) h.0 (short, tt),
  ap (λ t. t ++ line) h.1 ∙ ap (λ t. concat lines ++ t) (sym (append-nil line)) ∙ sym (concat-append lines (line ∷ [])),
)

-- one that is too long
pub long-more : (lines : List (List ℕ)) (long : List ℕ) → IsLong long → IsUnread TooLong (lines ++ long ∷ [])
long-more lines long is all = none (short-back lines (long ∷ []) all).0
  where
    none : IsShort long → ⊥
    none short = absurd (omega (arith, is, short))

-- a line is put behind a text, or lost where lines are lost already
pub put-read : (unread after : Option Unread) (lines : List (List ℕ)) (line text new : List ℕ) → unread ≡ None → after ≡ None
    → new ≡ text ++ line → IsShort line → AreRead lines text unread → AreRead (lines ++ line ∷ []) new after
put-read unread after lines line text new none still is short h =
    rw still (rw is (read-more lines line text short (rw none at h)))

pub put-lost : (unread : Option Unread) (lines more : List (List ℕ)) (text new : List ℕ) → (unread ≡ None → ⊥)
    → AreRead lines text unread → AreRead (lines ++ more) new unread
put-lost None lines more text new some h = absurd (some refl)
put-lost (Some why) lines more text new some h = unread-more why lines more h

pub Takes-none : {A : Type 0} (now : CommandLines A) → Takes [] now now
Takes-none now = λ above blocks read. subst (λ lines. AreRead lines now.text.items now.unread) (sym (append-nil above)) read

pub Takes-trans : {A : Type 0} (lines more : List (List ℕ)) (a b c : CommandLines A) → Takes lines a b → Takes more b c
    → Takes (lines ++ more) a c
Takes-trans lines more a b c h k = λ above blocks read.
    subst (λ all. AreRead all c.text.items c.unread) (append_assoc above lines more)
    (k (above ++ lines) (HasBlocks-append above lines blocks) (h above blocks read))

-- ---- the lines of a text

-- behind no word stand commands
split-none : (lines : List (List ℕ)) → split_lines lines [] ≡ ([], (split_lines lines []).1)
split-none [] = refl
split-none (line ∷ lines) = refl

-- These lines came up to now of those up to some words, and these words are waited for.
abbrev pub Waits : (before now : Option (List ℕ)) → (words waited lines : List (List ℕ)) → Type 0
Waits None now words waited lines = ⊤
Waits (Some xs) None words waited lines = ⊥
Waits (Some xs) (Some ys) words waited lines =
    split_lines (physical_lines xs) words
    ≡ (lines ++ (split_lines (physical_lines ys) waited).0, (split_lines (physical_lines ys) waited).1)

pub waits-none : (x : Option (List ℕ)) (words : List (List ℕ)) → Waits x x words words []
waits-none None words = tt
waits-none (Some xs) words = refl

split-one : (line : List ℕ) (lines waited : List (List ℕ)) → waited ≢ []
    → split_lines (line ∷ lines) waited
    ≡ (line ∷ (split_lines lines (waited_behind line waited)).0, (split_lines lines (waited_behind line waited)).1)
split-one line lines [] some = absurd (some refl)
split-one line lines (word ∷ words) some = refl

pub waits-more : (x y z : Option (List ℕ)) (words waited lines : List (List ℕ)) (line : List ℕ) → waited ≢ [] → LosesLine y z line
    → Waits x y words waited lines → Waits x z words (waited_behind line waited) (lines ++ line ∷ [])
waits-more None y z words waited lines line some loses h = tt
waits-more (Some xs) None z words waited lines line some loses h = absurd h
waits-more (Some xs) (Some ys) None words waited lines line some loses h = absurd loses
waits-more (Some xs) (Some ys) (Some zs) words waited lines line some loses h =
    let rest : List (List ℕ) × List (List (List ℕ)) = split_lines (physical_lines zs) (waited_behind line waited) in
    let one : split_lines (physical_lines ys) waited ≡ (line ∷ rest.0, rest.1) =
    ap (λ t. split_lines t waited) loses.1 ∙ split-one line (physical_lines zs) waited some in
    h ∙ ap (λ (p : List (List ℕ) × List (List (List ℕ))). (lines ++ p.0, p.1)) one
    ∙ ap (λ (t : List (List ℕ)). (t, rest.1)) (sym (append_assoc lines (line ∷ []) rest.0))

pub waits-closed : (x y : Option (List ℕ)) (words waited lines : List (List ℕ)) → waited ≡ [] → Waits x y words waited lines
    → LosesBelow x y words lines
waits-closed None y words waited lines closed h = tt
waits-closed (Some xs) None words waited lines closed h = absurd h
waits-closed (Some xs) (Some ys) words waited lines closed h =
    h ∙ ap (λ (p : List (List ℕ) × List (List (List ℕ))). (lines ++ p.0, p.1)) (ap (split_lines (physical_lines ys)) closed ∙ split-none (physical_lines ys))
    ∙ ap (λ (t : List (List ℕ)). (t, commands_in ys)) (append-nil lines)

-- ---- the words below a line

words-short : (line : List ℕ) → IsShort line → words_below line ≡ block_words (without_terminator line)
unfolding words_below
words-short line short = rw (lt-ltb (length (before_line_feed line)) 65536 short) refl

-- the words that were found in a line
pub words-found : (line text : List ℕ) (found : List (List ℕ)) → IsShort line → text ≡ without_terminator line
    → found ≡ block_words text → found ≡ words_below line
words-found line text found short same is = is ∙ ap block_words same ∙ sym (words-short line short)

pub words-none : (items : List (Bor (List ℕ))) (words : List (List ℕ)) → (length items == 0) ≡ true → map bytes items ≡ words
    → words ≡ []
words-none [] words none is = sym is
words-none (item ∷ items) words none is = absurd (omega (arith, eqb-true (length (item ∷ items)) 0 none))

pub words-some : (items : List (Bor (List ℕ))) (words : List (List ℕ)) → (length items == 0) ≡ false → map bytes items ≡ words
    → words ≢ []
words-some [] words some is = cc
words-some (item ∷ items) words some is = λ none. absurd (cons-nil (is ∙ none))
  where
    cons-nil : (bytes item ∷ map bytes items) ≡ [] → ⊥
    cons-nil e = cc

words-long : (line : List ℕ) → IsLong line → words_below line ≡ []
unfolding words_below
words-long line long = go (nat_lt (length (before_line_feed line)) 65536) refl
  where
    go : (b : Bool) → nat_lt (length (before_line_feed line)) 65536 ≡ b → words_below line ≡ []
    go true e = absurd (omega (arith, long, ltb-true (length (before_line_feed line)) 65536 e))
    go false e = rw e refl

-- a line that is too long ends no block
pub behind-long : (line : List ℕ) (words : List (List ℕ)) → IsLong line → waited_behind line words ≡ words
behind-long line [] long = refl
behind-long line (word ∷ words) long = go (nat_lt (length (before_line_feed line)) 65536) refl
  where
    go : (b : Bool) → nat_lt (length (before_line_feed line)) 65536 ≡ b → waited_behind line (word ∷ words) ≡ word ∷ words
    go true e = absurd (omega (arith, long, ltb-true (length (before_line_feed line)) 65536 e))
    go false e = rw e refl

-- ---- the first command

loses-command : (x y z : Option (List ℕ)) (line : List ℕ) (lines : List (List ℕ)) → LosesLine x y line
    → LosesBelow y z (words_below line) lines → LosesCommand x z (line ∷ lines)
loses-command None y z line lines first below = tt
loses-command (Some xs) None z line lines first below = absurd first
loses-command (Some xs) (Some ys) None line lines first below = absurd below
loses-command (Some xs) (Some ys) (Some zs) line lines first below =
    ap (λ t. (split_lines t []).1) first.1 ∙ ap (λ (p : List (List ℕ) × List (List (List ℕ))). (line ∷ p.0) ∷ p.1) below

pub loses-none : (x : Option (List ℕ)) (words : List (List ℕ)) → words ≡ [] → LosesBelow x x words []
loses-none x words none = waits-closed x x words words [] none (waits-none x words)

pub loses-long : (x y : Option (List ℕ)) (line : List ℕ) → LosesLine x y line → IsLong line → LosesCommand x y (line ∷ [])
loses-long x y line first long =
    loses-command x y y line [] first (loses-none y (words_below line) (words-long line long))
