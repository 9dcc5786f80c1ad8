-- Each side is less high than the whole.
use Rattle.mk_tree.proofs.parse.+read_tree.Given as goal

abbrev pub decreases-read_tree : goal.decreases-read_tree
decreases-read_tree g l = l.height
