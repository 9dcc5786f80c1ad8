-- What a row says of the relation between scripts and steps: if a row computes steps, they are the script's; if it computes
-- a number, the line of this number is the first that is no command. The converse holds too.
use Rattle.std.proofs.Common.{◌≡◌, ℕ, List}
use Rattle.std.specs.Prelude.{◌↔◌, Ok, Err}
use Rattle.mk_script.specs.Scripts.{Step, IsScript, HasNoCommand}
use Rattle.mk_rows.proofs.scripts.ScriptReader.{read_script, read-steps, read-no_command, steps-read, no_command-read}

row_of_steps : (script : List ℕ) (steps : List Step) → (read_script script ≡ Ok steps) ↔ IsScript script steps
row_of_steps script steps = (read-steps script steps, steps-read script steps)

row_of_fault : (script : List ℕ) (number : ℕ) → (read_script script ≡ Err number) ↔ HasNoCommand script number
row_of_fault script number = (read-no_command script number, no_command-read script number)
