-- The line is behind the text, or lines were lost before.
use Rattle.std.proofs.Common.{◌≡◌, rules}
use Rattle.std.specs.Prelude.{None}
use Rattle.mk_repl.proofs.CommandLineLemmas.{put-read, put-lost}
use Rattle.mk_repl.proofs.command_lines.CommandLines.put.Goals as goal
use Rattle.mk_repl.proofs.command_lines.CommandLines.put.Goals.{else-is_none-via-then-is_none+else-is_err, else-is_none-via-else-is_none}

pub returns-else-is_none-clause-read : goal.returns-else-is_none-clause-read
returns-else-is_none-clause-read g c =
    elim c.else-is_none.branch [
      | else-is_none-via-then-is_none+else-is_err w ↦
          let none : c.args.self.now.unread ≡ None = search rules in
          rw w.self-is (λ lines blocks read. put-read _ _ lines c.args.line.now c.args.self.now.text.items _ none none (search rules) c.requires read)
      | else-is_none-via-else-is_none w ↦
          let some : c.args.self.now.unread ≡ None → ⊥ = search rules in
          rw w.self-is (λ lines blocks read. put-lost c.args.self.now.unread lines _ c.args.self.now.text.items c.args.self.now.text.items some read)
    ]
