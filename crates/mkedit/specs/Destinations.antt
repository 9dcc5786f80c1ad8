-- Where the text of each makefile goes, and what a makefile is called.
-- Told in docs/EDITS.md, "Running a script".
use Rattle.std.specs.Prelude.{ℕ, List, codes}
use Rattle.mk_cli.specs.declared.request.Input.{Input}
use Rattle.mk_cli.specs.declared.request.Input.TheVariants as input
use Rattle.mk_cli.specs.declared.request.Output.{Output}
use Rattle.mk_cli.specs.declared.request.Output.TheVariants as output
use Rattle.mkedit.specs.declared.destination.Destination.{Destination}
use Rattle.mkedit.specs.declared.destination.Destination.TheVariants.{InPlace, Printed}
use Rattle.mkedit.specs.declared.destination.Printed.TheVariants.{Standard, File, Nowhere}

abbrev pub destination_of : Output → Input → Destination
destination_of output.Standard file = Printed Standard
destination_of (output.File name) file = Printed (File name)
destination_of output.Nowhere file = Printed Nowhere
destination_of (output.InPlace backup) (input.File name) = InPlace name backup.0
destination_of (output.InPlace backup) input.Standard = Printed Standard

-- what a file is called in notes
abbrev pub input_name : Input → List ℕ
input_name (input.File name) = name.now
input_name input.Standard = codes "standard input"

-- what a makefile is called where lines begin with its name
abbrev pub name_of : Input → List ℕ
name_of (input.File name) = name.now
name_of input.Standard = codes "-"
