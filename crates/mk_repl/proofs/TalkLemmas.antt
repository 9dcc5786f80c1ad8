-- One command more that was answered.
use Rattle.std.proofs.Common.{◌≡◌, refl, sym, ap, ◌∙◌, subst, ℕ, List, [], ◌∷◌, ◌++◌, append_assoc, inl, inr}
use Rattle.std.specs.Prelude.{Option, None, Some, ⊤, Result, Ok, Err, OnOk}
use Rattle.std.specs.Io.KnownBytes.{Appends, Keeps, IsAtEnd}
use Rattle.std.specs.List.{AllByRecursion}
use Rattle.std.proofs.KnownBytes.{Appends-kept, Appends-nil, Appends-trans}
use Rattle.std.proofs.lemmas.List.{append-nil}
use Rattle.mk_lines.specs.Lists.{concat}
use Rattle.mk_lines.proofs.on_lists.ListLemmas.{concat-append}
use Rattle.mk_repl.proofs.CommandLineLemmas.{long-more, loses-long}
use Rattle.mk_repl.specs.InputLines.{IsLong, IsShort, LosesLine}
use Rattle.mk_repl.specs.CommandLines.{AreRead, HasBlocks, LosesBelow, LosesCommand, Takes, commands_in}
use Rattle.mk_repl.specs.declared.command_lines.CommandLines.{CommandLines}
use Rattle.mk_repl.specs.Talks.{ArePrompts, IsAnswer, IsReplied, IsTurn, GoesOver, BeginsWith, IsTalk, SaysOut}
use Rattle.mk_repl.specs.declared.command_lines.Unread.{Unread}
use Rattle.mk_repl.specs.declared.command_lines.Unread.TheVariants.{TooLong}
use Rattle.mk_repl.specs.declared.talk.After.{After}
use Rattle.mk_repl.specs.declared.talk.After.TheVariants.{GoesOn, Ends}

-- the commands of known bytes are these, and those of what is left
abbrev Leads : (before after : Option (List ℕ)) → List (List (List ℕ)) → Type 0
Leads None after commands = ⊤
Leads (Some xs) None commands = ⊥
Leads (Some xs) (Some ys) commands = commands_in xs ≡ commands ++ commands_in ys

leads-on : (x y z : Option (List ℕ)) (commands : List (List (List ℕ))) (lines : List (List ℕ)) → Leads x y commands
    → LosesCommand y z lines → Leads x z (commands ++ lines ∷ [])
leads-on None y z commands lines h k = tt
leads-on (Some xs) None z commands lines h k = absurd h
leads-on (Some xs) (Some ys) None commands lines h k = absurd k
leads-on (Some xs) (Some ys) (Some zs) commands lines h k =
    h ∙ ap (λ t. commands ++ t) k ∙ sym (append_assoc commands (lines ∷ []) (commands_in zs))

-- the bytes begin with these commands and the next, or end with them
begins : (x y z : Option (List ℕ)) (commands : List (List (List ℕ))) (lines : List (List ℕ)) → Leads x y commands
    → LosesCommand y z lines → (rest : List (List (List ℕ))) × BeginsWith x commands (lines ∷ rest)
begins None y z commands lines h k = ([], tt)
begins (Some xs) None z commands lines h k = absurd h
begins (Some xs) (Some ys) None commands lines h k = absurd k
begins (Some xs) (Some ys) (Some zs) commands lines h k = (commands_in zs, h ∙ ap (λ t. commands ++ t) k)

ends : (x y : Option (List ℕ)) (commands : List (List (List ℕ))) → Leads x y commands → IsAtEnd y → BeginsWith x commands []
ends None y commands h e = tt
ends (Some xs) None commands h e = absurd h
ends (Some xs) (Some ys) commands h e = h ∙ ap (λ t. commands ++ commands_in t) e

-- what went out stays so where nothing more goes out
pub says-kept : (a b c : Option (List ℕ)) (Says : List ℕ → Type 0) → SaysOut a b Says → Keeps b c → SaysOut a c Says
says-kept a b c Says (text, is_out, says) kept = (text, Appends-kept a b c text is_out kept, says)

-- the same behind a result
pub says-on_ok : {T E : Type 0} (result : Result T E) (a b c : Option (List ℕ)) (Says : List ℕ → Type 0) → SaysOut a b Says → Keeps b c
    → OnOk result (SaysOut a c Says)
says-on_ok (Ok t) a b c Says said kept = says-kept a b c Says said kept
says-on_ok (Err e) a b c Says said kept = tt

-- ---- what is said before lines of blocks

told-more : (P : List ℕ → Type 0) (told : List (List ℕ)) (text : List ℕ) → AllByRecursion P told → P text
    → AllByRecursion P (told ++ text ∷ [])
told-more P [] text h p = (p, tt)
told-more P (one ∷ told) text h p = (h.0, told-more P told text h.1 p)

pub prompts-none : (a : Option (List ℕ)) (P : List ℕ → Type 0) → SaysOut a a (ArePrompts P)
prompts-none a P = ([], Appends-nil a, ([], tt, refl))

pub prompts-more : (a b c : Option (List ℕ)) (P : List ℕ → Type 0) → SaysOut a b (ArePrompts P) → SaysOut b c P
    → SaysOut a c (ArePrompts P)
prompts-more a b c P (said, is_out, (told, all, same)) (text, more, is) = (
  said ++ text,
  Appends-trans a b c said text is_out more,
  (
    told ++ text ∷ [],
    told-more P told text all is,
    ap (λ t. t ++ text) same ∙ ap (λ t. concat told ++ t) (sym (append-nil text)) ∙ sym (concat-append told (text ∷ [])),
  ),
)

module _ {L : Type 0} (prompts : L → List ℕ → Type 0) (rejects : L → Unread → List ℕ → L → Type 0) (handles : L → List ℕ → List ℕ → After → L → Type 0) where
  -- the prompts and the answer went out
  replied : (a b c : Option (List ℕ)) (lines : List (List ℕ)) (old new : L) (after : After) → SaysOut a b (ArePrompts (prompts old))
      → SaysOut b c (λ reply. IsAnswer prompts rejects handles lines old reply after new)
      → SaysOut a c (λ said. IsReplied prompts rejects handles lines old said after new)
  replied a b c lines old new after (prompted, is_out, are) (reply, more, is) =
      (prompted ++ reply, Appends-trans a b c prompted reply is_out more, (prompted, reply, are, is, refl))

  -- there were no prompts
  pub replied-alone : (a b : Option (List ℕ)) (lines : List (List ℕ)) (old new : L) (after : After)
      → SaysOut a b (λ reply. IsAnswer prompts rejects handles lines old reply after new)
      → SaysOut a b (λ said. IsReplied prompts rejects handles lines old said after new)
  replied-alone a b lines old new after is = replied a a b lines old new after (prompts-none a (prompts old)) is

  -- the answer to a command of one line, which is read
  pub answered-line : (a b : Option (List ℕ)) (line : List ℕ) (old new : L) (after : After) → IsShort line
      → SaysOut a b (λ reply. handles old line reply after new)
      → SaysOut a b (λ reply. IsAnswer prompts rejects handles (line ∷ []) old reply after new)
  answered-line a b line old new after short (reply, is_out, is) =
      (reply, is_out, inl ((short, tt), subst (λ text. handles old text reply after new) (sym (append-nil line)) is))

  -- the answer to a command whose lines are read, and to one whose lines are not
  pub answered-read : (a b : Option (List ℕ)) (text told : List ℕ) (unread : Option Unread) (old new : L) (after : After)
      → unread ≡ None → told ≡ text → SaysOut a b (λ reply. handles old told reply after new)
      → SaysOut a b (λ reply. (lines : List (List ℕ)) → AreRead lines text unread → IsAnswer prompts rejects handles lines old reply after new)
  answered-read a b text told unread old new after none same (reply, is_out, is) =
      (reply, is_out, λ lines read. let are = rw none at read in inl (are.0, subst (λ it. handles old it reply after new) (same ∙ are.1) is))

  pub answered-unread : (a b : Option (List ℕ)) (text : List ℕ) (unread : Option Unread) (why : Unread) (old new : L) (after : After)
      → unread ≡ Some why → after ≡ GoesOn → SaysOut a b (λ reply. rejects old why reply new)
      → SaysOut a b (λ reply. (lines : List (List ℕ)) → AreRead lines text unread → IsAnswer prompts rejects handles lines old reply after new)
  answered-unread a b text unread why old new after some goes-on (reply, is_out, is) =
      (reply, is_out, λ lines read. inr (why, rw some at read, is, goes-on))

  -- the lines of its blocks came, and then the answer
  pub blocks-answered : {A : Type 0} (x y : Option (List ℕ)) (words : List (List ℕ)) (a b c : Option (List ℕ)) (first now : CommandLines A) (old new : L) (after : After)
      → ((lines : List (List ℕ)) × LosesBelow x y words lines × Takes lines first now) → SaysOut a b (ArePrompts (prompts old))
      → SaysOut b c (λ reply. (lines : List (List ℕ)) → AreRead lines now.text.items now.unread → IsAnswer prompts rejects handles lines old reply after new)
      → (lines : List (List ℕ)) × LosesBelow x y words lines
      × SaysOut a c (λ reply. (above : List (List ℕ)) → HasBlocks above → AreRead above first.text.items first.unread → IsReplied prompts rejects handles (above ++ lines) old reply after new)
  blocks-answered x y words a b c first now old new after (lines, loses, takes) (prompted, is_prompted, are) (reply, is_out, is) = (
    lines,
    loses,
    (
      prompted ++ reply,
      Appends-trans a b c prompted reply is_prompted is_out,
      λ above blocks read. (prompted, reply, are, is (above ++ lines) (takes above blocks read), refl),
    ),
  )

  -- a line that is too long, and its answer
  pub long-turn : (a b x y : Option (List ℕ)) (old new : L) (after : After) → ((long : List ℕ) × LosesLine x y long × IsLong long)
      → after ≡ GoesOn → SaysOut a b (λ reply. rejects old TooLong reply new)
      → SaysOut a b (λ reply. IsTurn prompts rejects handles x y old reply after new)
  long-turn a b x y old new after (long, loses, is) goes-on (reply, is_out, rejected) = (
    reply,
    is_out,
    inl (long ∷ [], loses-long x y long loses is, ([], reply, ([], tt, refl), inr (TooLong, long-more [] long is, rejected, goes-on), refl)),
  )

  goes-over-more : (commands : List (List (List ℕ))) (lines : List (List ℕ)) (a b c : L) (replies reply : List ℕ)
      → GoesOver prompts rejects handles commands a replies b → IsReplied prompts rejects handles lines b reply GoesOn c
      → GoesOver prompts rejects handles (commands ++ lines ∷ []) a (replies ++ reply) c
  goes-over-more [] lines a b c replies reply (none, same) next =
      (c, reply, [], subst (λ it. IsReplied prompts rejects handles lines it reply GoesOn c) same next, (refl, refl), ap (λ t. t ++ reply) none ∙ sym (append-nil reply))
  goes-over-more (first ∷ commands) lines a b c replies reply (m, one, rest, said, more, is) next =
      (m, one, rest ++ reply, said, goes-over-more commands lines m b c rest reply more next, ap (λ t. t ++ reply) is ∙ append_assoc one rest reply)

  -- what was answered until now, of a source and a sink before and after, behind this greeting
  pub record HasTalked (greets : L → List ℕ → Type 0) (source rest : Option (List ℕ)) (first : L) (before out : Option (List ℕ)) (now : L) : Type 0 where
    pub commands : List (List (List ℕ))
    pub greeting : List ℕ
    pub replies : List ℕ
    pub leads : Leads source rest commands
    pub greeted : greets first greeting
    pub goes_over : GoesOver prompts rejects handles commands first replies now
    pub is_out : Appends before out (greeting ++ replies)

  pub first-talked : (greets : L → List ℕ → Type 0) (source : Option (List ℕ)) (first : L) (before out : Option (List ℕ)) → SaysOut before out (greets first)
      → HasTalked greets source source first before out first
  first-talked greets source first before out (greeting, is_out, greeted) = record {
    commands = [];
    greeting = greeting;
    replies = [];
    leads = leads-none source;
    greeted = greeted;
    goes_over = (refl, refl);
    is_out = subst (Appends before out) (sym (append-nil greeting)) is_out;
  }
    where
      leads-none : (x : Option (List ℕ)) → Leads x x []
      leads-none None = tt
      leads-none (Some xs) = refl

  -- one command more
  pub more-talked : (greets : L → List ℕ → Type 0) (source y z : Option (List ℕ)) (first b c : L) (before out next : Option (List ℕ))
      (after : After) → HasTalked greets source y first before out b
      → SaysOut out next (λ reply. IsTurn prompts rejects handles y z b reply after c) → after ≡ GoesOn
      → HasTalked greets source z first before next c
  more-talked greets source y z first b c before out next after h (reply, is_out, says) goes-on =
      elim (subst (λ a. IsTurn prompts rejects handles y z b reply a c) goes-on says) [
        | inl (lines, loses, next_is) ↦ record {
          commands = h.commands ++ lines ∷ [];
          greeting = h.greeting;
          greeted = h.greeted;
          replies = h.replies ++ reply;
          leads = leads-on source y z h.commands lines h.leads loses;
          goes_over = goes-over-more h.commands lines first b c h.replies reply h.goes_over next_is;
          is_out = subst (Appends before next) (append_assoc h.greeting h.replies reply) (Appends-trans before out next (h.greeting ++ h.replies) reply h.is_out is_out);
        }
        | inr (end, none, over, kept) ↦ absurd (other over)
      ]
    where
      other : GoesOn ≡ Ends → ⊥
      other e = cc

  -- the last command, or the end
  pub all-talked : (greets : L → List ℕ → Type 0) (source y z : Option (List ℕ)) (first b c : L) (before out next : Option (List ℕ))
      (after : After) → HasTalked greets source y first before out b
      → SaysOut out next (λ reply. IsTurn prompts rejects handles y z b reply after c) → after ≡ Ends
      → SaysOut before next (λ said. IsTalk greets prompts rejects handles source first said c)
  all-talked greets source y z first b c before out next after h (reply, is_out, says) over =
      let whole = subst (Appends before next) (append_assoc h.greeting h.replies reply) (Appends-trans before out next (h.greeting ++ h.replies) reply h.is_out is_out) in
      elim (subst (λ a. IsTurn prompts rejects handles y z b reply a c) over says) [
        | inl (lines, loses, last_is) ↦
            let some = begins source y z h.commands lines h.leads loses in (
              h.greeting ++ (h.replies ++ reply),
              whole,
              (
                h.greeting,
                h.replies ++ reply,
                h.greeted,
                refl,
                inr (record {
                  commands = h.commands;
                  last = lines;
                  unread = some.0;
                  begins = some.1;
                  middle = b;
                  before = h.replies;
                  reply = reply;
                  goes_over = h.goes_over;
                  ends = last_is;
                  replies_are = refl;
                }),
              ),
            )
        | inr (end, none, same, kept) ↦ (
          h.greeting ++ (h.replies ++ reply),
          whole,
          (
            h.greeting,
            h.replies ++ reply,
            h.greeted,
            refl,
            inl (record {
              commands = h.commands;
              all = ends source y h.commands h.leads end;
              goes_over = subst (λ it. GoesOver prompts rejects handles h.commands first it c) (sym (ap (λ t. h.replies ++ t) none ∙ append-nil h.replies))
                  (subst (λ it. GoesOver prompts rejects handles h.commands first h.replies it) (sym kept) h.goes_over);
            }),
          ),
        )
      ]
