use Rattle.mk_class.proofs.on_classes.ClassLemmas.{class_of-counts}
use Rattle.mk_class.proofs.laws.classes_fit_counts.Goals as goal

pub returns : goal.returns
returns c = class_of-counts
