use Rattle.std.proofs.Common.{◌∙◌, sym, refl}
use Rattle.mk_class.proofs.SearchLemmas.{none-after}
use Rattle.mk_class.proofs.CoverLemmas.{no_bar}
use Rattle.mk_class.proofs.header.split_order_only.Goals as goal

pub returns-then-not-has_bar : goal.returns-then-not-has_bar
returns-then-not-has_bar c = (none-after 124 c.args.text.now (no_bar c.args.marks c.args.text.now c.requires (sym c.has_bar.ensures ∙ c.if-not-has_bar.true)), refl, refl)
