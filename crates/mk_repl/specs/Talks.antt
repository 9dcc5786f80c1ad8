-- Commands that are read and answered, one after the other, each with the lines of its blocks. A handler of
-- the type L says what it says before the first line, and before each line of a block; what a command whose
-- lines are not read comes to: before it, why, the reply, and after it; and what handling a command comes
-- to: before it, its text, the reply, whether the talk goes on, and after it.
-- Told in docs/PROTOCOL.md, "Lines", "Blocks" and "Replies".
use Rattle.std.specs.Prelude.{◌≡◌, ◌⊎◌, ℕ, Bool, true, false, List, [], ◌∷◌, ◌++◌, Option, IfSome, Result, IfErr, IfOk, OnOk, codes}
use Rattle.std.specs.Io.KnownBytes.{Appends, IsAtEnd}
use Rattle.std.specs.List.{AllByRecursion}
use Rattle.mk_lines.specs.Lists.{concat}
use Rattle.mk_lines.specs.declared.fault.Fault.{Fault}
use Rattle.mk_lines.specs.declared.fault.Fault.TheVariants.{Write}
use Rattle.mk_repl.specs.CommandLines.{IsUnread, LosesCommand, commands_in}
use Rattle.mk_repl.specs.InputLines.{IsShort}
use Rattle.mk_repl.specs.declared.command_lines.Unread.{Unread}
use Rattle.mk_repl.specs.declared.command_lines.Unread.TheVariants.{TooLong, NoMemory}
use Rattle.mk_repl.specs.declared.talk.After.{After}
use Rattle.mk_repl.specs.declared.talk.After.TheVariants.{GoesOn, Ends}

-- the first line of the protocol
abbrev pub greeting : List ℕ
greeting = codes "mkedit session 1\n"

-- the reply of the protocol to a command whose lines are not read
abbrev pub unread_reply : Unread → List ℕ
unread_reply TooLong = codes "fault line too long\n"
unread_reply NoMemory = codes "fault no memory\n"

-- A text went out, of which this holds.
abbrev pub SaysOut : (before after : Option (List ℕ)) → (Says : List ℕ → Type 0) → Type 0
SaysOut before after Says = (text : List ℕ) × Appends before after text × Says text

-- A text went out of a sink, of which this holds with the value that is answered; or the sink failed.
pub record Tells {S T : Type 0} (contents : S → Option (List ℕ)) (failed : S → Bool) (old new : S)
    (result : Result T Fault) (Says : T → List ℕ → Type 0) : Type 0 where
  pub said : IfOk result (λ value. SaysOut (contents old) (contents new) (Says value))
  pub fault : IfErr result (λ fault. (fault ≡ Write) × (failed new ≡ true))
  pub works : OnOk result (failed new ≡ false)

-- The commands of a source, if its bytes are known, are first these, and then others.
abbrev pub BeginsWith : (bytes : Option (List ℕ)) → (commands rest : List (List (List ℕ))) → Type 0
BeginsWith bytes commands rest = IfSome bytes (λ text. commands_in text ≡ commands ++ rest)

-- some prompts were said
abbrev pub ArePrompts : (IsPrompt : List ℕ → Type 0) → (said : List ℕ) → Type 0
ArePrompts IsPrompt said =
    (prompts : List (List ℕ)) × AllByRecursion IsPrompt prompts × (said ≡ concat prompts)

module _ {L : Type 0} (prompts : L → List ℕ → Type 0) (rejects : L → Unread → List ℕ → L → Type 0)
    (handles : L → List ℕ → List ℕ → After → L → Type 0) where
  -- a command of these lines gets this reply: the handler's, or that on lines that are not read
  abbrev pub IsAnswer : (lines : List (List ℕ)) → (old : L) → (reply : List ℕ) → After → (new : L) → Type 0
  IsAnswer lines old reply after new =
      (AllByRecursion IsShort lines × handles old (concat lines) reply after new)
      ⊎ ((why : Unread) × IsUnread why lines × rejects old why reply new × (after ≡ GoesOn))

  -- this is said before the lines of its blocks, and this reply comes to it
  abbrev pub IsReplied : (lines : List (List ℕ)) → (old : L) → (said : List ℕ) → After → (new : L) → Type 0
  IsReplied lines old said after new =
      (prompted reply : List ℕ) × ArePrompts (prompts old) prompted × IsAnswer lines old reply after new
      × (said ≡ prompted ++ reply)

  -- The first of the commands of a source, before and after it, gets this reply; or there is none.
  abbrev pub IsTurn : (before rest : Option (List ℕ)) → (old : L) → (reply : List ℕ) → After → (new : L)
      → Type 0
  IsTurn before rest old reply after new =
      ((lines : List (List ℕ)) × LosesCommand before rest lines × IsReplied lines old reply after new)
      ⊎ (IsAtEnd before × (reply ≡ []) × (after ≡ Ends) × (new ≡ old))

  -- commands, one after the other, get these replies, and the talk goes on after each of them
  abbrev pub GoesOver : (commands : List (List (List ℕ))) → (old : L) → (replies : List ℕ) → (new : L) → Type 0
  GoesOver [] old replies new = (replies ≡ []) × (new ≡ old)
  GoesOver (lines ∷ commands) old replies new =
      (next : L) × (reply rest : List ℕ) × IsReplied lines old reply GoesOn next
      × GoesOver commands next rest new
      × (replies ≡ reply ++ rest)

  -- The commands of a source were answered to its end: this went out behind the greeting.
  pub record IsAnsweredToTheEnd (bytes : Option (List ℕ)) (old : L) (replies : List ℕ) (new : L)
      : Type 0 where
    pub commands : List (List (List ℕ))
    pub all : BeginsWith bytes commands []
    pub goes_over : GoesOver commands old replies new

  -- They were answered up to a command after which the talk ends.
  pub record IsAnsweredToACommand (bytes : Option (List ℕ)) (old : L) (replies : List ℕ) (new : L)
      : Type 0 where
    pub commands : List (List (List ℕ))
    pub last : List (List ℕ)
    pub unread : List (List (List ℕ))
    pub begins : BeginsWith bytes commands (last ∷ unread)
    pub middle : L
    pub before : List ℕ
    pub reply : List ℕ
    pub goes_over : GoesOver commands old before middle
    pub ends : IsReplied last middle reply Ends new
    pub replies_are : replies ≡ before ++ reply

-- A talk over the bytes of a source: this went out, the greeting first.
abbrev pub IsTalk : {L : Type 0} → (greets prompts : L → List ℕ → Type 0)
    → (rejects : L → Unread → List ℕ → L → Type 0)
    → (handles : L → List ℕ → List ℕ → After → L → Type 0)
    → (bytes : Option (List ℕ)) → (old : L) → (out : List ℕ) → (new : L) → Type 0
IsTalk greets prompts rejects handles bytes old out new =
    (first replies : List ℕ) × greets old first × (out ≡ first ++ replies)
    × (IsAnsweredToTheEnd prompts rejects handles bytes old replies new
    ⊎ IsAnsweredToACommand prompts rejects handles bytes old replies new)
