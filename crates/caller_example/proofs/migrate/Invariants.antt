-- The lines so far are migrated.
use Rattle.mk_class.specs.ClassedLines.{classed_lines}
use Rattle.caller_example.specs.Migrated.{AreMigrated}
use Rattle.caller_example.proofs.migrate.Given as goal

abbrev pub invariant-numbers : goal.invariant-numbers
invariant-numbers l = AreMigrated l.fn.name l.fn.old (classed_lines l.fn.session.shown.text) (classed_lines l.session.shown.text)
