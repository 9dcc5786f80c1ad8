use Rattle.std.proofs.Common.{sym, ◌∙◌}
use Rattle.mk_lines.specs.Bytes.{is_blank_byte}
use Rattle.mk_class.proofs.ArgumentLemmas.{last_passes-at}
use Rattle.mk_class.proofs.blank.ends_with_blank.Goals as goal

pub returns-in-len1-up : goal.returns-in-len1-up
returns-in-len1-up c = c.is_blank.ensures ∙ sym (last_passes-at is_blank_byte c.args.text.now c.in-len1-up.len_at_least)
