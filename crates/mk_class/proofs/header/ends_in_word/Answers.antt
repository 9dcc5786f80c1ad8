use Rattle.std.proofs.Common.{sym, ◌∙◌}
use Rattle.mk_class.proofs.ScanLemmas.{ends_in_word-left}
use Rattle.mk_class.proofs.header.ends_in_word.Goals as goal

pub returns-then-not-is_empty : goal.returns-then-not-is_empty
returns-then-not-is_empty c = c.is_empty-then-not-is_empty.ensures ∙ ends_in_word-left c.args.text.now c.blanks_at_end.result.now (sym c.if-not-is_empty.ensures) c.blanks_at_end.ensures.rest
