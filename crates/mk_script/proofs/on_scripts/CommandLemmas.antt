-- Scripts without `try` and `or`.
use Rattle.std.proofs.Common.{ℕ, ◌+◌, List, [], ◌∷◌, ◌++◌, refl, sym, ap, ◌∙◌, subst, inl, inr, map, length, append_assoc}
use Rattle.mk_script.specs.Lines.{script_lines, HasCommand}
use Rattle.mk_script.specs.Scripts.{CommandAt, Alone, AreSaid, sayings, IsScript}
use Rattle.mk_script.specs.ScriptsOfCommands.{AreCommands, IsScriptOfCommands}
use Rattle.mk_script.specs.FirstCommands.{HasFirstCommand, IsScriptOfFirstCommands}
use Rattle.mk_script.specs.ScriptLaws.{CommandsAreSteps, FaultsWithoutAlternativesStay, FirstCommandsStay}
use Rattle.mk_script.proofs.on_commands.FirstLemmas.{first-command}
use Rattle.mk_script.proofs.on_commands.SayingLemmas.{without-words}
use Rattle.mk_script.proofs.on_scripts.ScriptLemmas.{gone-on}
use Rattle.mk_script.proofs.on_scripts.OneLemmas.{steps-one}

commands-said : (n : ℕ) (lines : List (List ℕ)) (commands : List CommandAt) → AreCommands HasCommand n lines commands → AreSaid n lines (sayings (map Alone commands))
commands-said n lines [] h = h
commands-said n lines (c ∷ commands) (first, others) = (
  record {
    skipped = first.skipped;
    line = first.line;
    block = first.block;
    rest = first.rest;
    lines_are = first.lines_are;
    are_skipped = first.are_skipped;
    number_is = first.number_is;
    says = first.says;
  },
  commands-said (c.line + 1 + length first.block) first.rest commands others,
)

pub commands-steps : CommandsAreSteps
commands-steps script commands h = commands-said 1 (script_lines script) commands h

pub faults-stay : FaultsWithoutAlternativesStay
faults-stay script n h =
    record {
      before = h.before;
      line = h.line;
      after = h.after;
      lines = h.lines;
      number_is = h.number_is;
      steps = map Alone h.commands;
      are = commands-said 1 h.before h.commands h.read;
      property = λ block rest steps whole are.
          let on = gone-on h.before h.line block (map Alone h.commands) steps (λ s. h.unread (inl s)) (commands-said 1 h.before h.commands h.read) are in
          h.unread
          (inr
          (on.block, on.rest ++ rest, whole ∙ (ap (λ b. b ++ rest) on.whole ∙ append_assoc on.block on.rest rest), without-words h.line on.block h.no_word on.saying on.says));
    }

-- ---- scripts of first commands

lines-of_commands : (n : ℕ) (lines : List (List ℕ)) (commands : List CommandAt) → AreCommands HasFirstCommand n lines commands → AreCommands HasCommand n lines commands
lines-of_commands n lines [] h = h
lines-of_commands n lines (c ∷ commands) (first, others) =
    let has = first.says in (
      record {
        skipped = first.skipped;
        line = first.line;
        block = first.block;
        rest = first.rest;
        lines_are = first.lines_are;
        are_skipped = first.are_skipped;
        number_is = first.number_is;
        says = subst (λ b. HasCommand first.line b c.command) (sym has.0) (has.1.0, has.1.1, first-command has.1.0 c.command has.1.2);
      },
      lines-of_commands (c.line + 1 + length first.block) first.rest commands others,
    )

pub of-commands : (script : List ℕ) (commands : List CommandAt) → IsScriptOfFirstCommands script commands → IsScriptOfCommands script commands
of-commands script commands h = lines-of_commands 1 (script_lines script) commands h

pub first-stay : FirstCommandsStay
first-stay script commands steps h =
    let are = commands-steps script commands (of-commands script commands h) in
    (λ k. steps-one script steps (map Alone commands) k are, λ same. subst (IsScript script) (sym same) are)
