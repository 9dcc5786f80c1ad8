use Rattle.std.proofs.Common.{sym, ap, ◌∙◌}
use Rattle.std.specs.Prelude.{◌%◌, ◌==◌, reverse}
use Rattle.mk_lines.proofs.SplitLemmas.{odd-run}
use Rattle.mk_lines.proofs.ends.ends_with_odd_run.Goals as goal

pub returns-in-92 : goal.returns-in-92
returns-in-92 c = ap (λ n. n % 2 == 1) c.backslashes_after.ensures ∙ sym (odd-run (reverse c.args.text.now))
